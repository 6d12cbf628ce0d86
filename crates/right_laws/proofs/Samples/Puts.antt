-- While RST is false a row puts down the sample that is awaited after it, and no other.
use Rattle.right_laws.proofs
use proofs.Names.{ℕ, ◌≡◌, ◌<◌, Bool, true, false, not, ◌&&◌, ◌∙◌, List, ◌∷◌, Option, Some, None, refl, sym, ap, subst}
use proofs.Names.{arith, same_Some, if◌then◌else◌, wrong, wrong', and_false, change_of, rises, falls, LineSet, call}
use proofs.Names.{connection, connection_after, receiver, receiver_of, bus, drives, driven_after, Row, Connection}
use proofs.Names.{ScenarioValue, Sample, kept_samples, samples, samples_with_byte, samples_with_ids, IsLeast, off_at}
use proofs.Names.{from_withdrawn, from_answered, from_resumed, from_arbitration, from_calls, from_asking, from_free}
use proofs.Names.{from_won, unreset_due, HasShortLatencies, CalmStanding, BusStage, on_free_bus, in_arbitration}
use proofs.Names.{after_arbitration, with_both_ids, awaiting_answer, after_withdrawal, after_answer, after_takeover}
use proofs.Names.{in_reset, sides_are, LinkStage, AnyStage, none_some, some_none, by_option, made_is, link_row}
use proofs.{Names.{drives_next, awaited, awaited_by, byte_at}, Samples.Bytes.{Crossed, into_initiator, into_target}}
use proofs.Samples.{Called.{IdsOn, ids_fresh, ids_on}, Calls.{with_awaited}, Crossings.{Crossing, carries_none}}
use proofs.Samples.{Crossings.{carries, crossing}, InTurn.{Precedes, sooner_precedes}, Moments.{Moment, HasCrossed}}
use proofs.Samples.{Moments.{Awaited, of_byte, of_ids, apart_of, awaited_of, linked_of, precedes_byte}, Taken.{IsPast}}
use Rattle.trace_laws.specs.bus_laws.specs.Stages.{in_connection}

pub record Puts (s : ScenarioValue) (p : List Row) (row : Row) : Type 0 where
  pub calm : (bus (row ∷ p)).rst ≡ false
  pub puts : samples s (row ∷ p) ≡ with_awaited (awaited s (row ∷ p)) (samples s p)
  pub next : (a b : Sample) → awaited s (row ∷ p) ≡ Some a → IsPast s (row ∷ p) b → Precedes b a
  pub crossed : HasCrossed (row ∷ p)

-- ---- RST stays false

pub apart_calm : (s : ScenarioValue) (p : List Row) (row : Row) → HasShortLatencies s → CalmStanding s p → BusStage s p
    → connection p ≡ None → (bus p).rst ≡ false → IsLeast (unreset_due s p) 8 row → (bus (row ∷ p)).rst ≡ false
apart_calm s p row fits a (on_free_bus h) alone calm l = (from_free s p row a h l).calm
apart_calm s p row fits a (in_arbitration b h) alone calm l = (from_arbitration s p b row a h l).calm
apart_calm s p row fits a (after_arbitration c t h) alone calm l = (from_won s p c t row fits a h l).calm
apart_calm s p row fits a (with_both_ids g c k t0 t e h) alone calm l = (from_calls s p g c k t0 t row a e h l).calm
apart_calm s p row fits a (awaiting_answer v g c k t0 t1 t2 x h) alone calm l =
    (from_asking s p v g c k t0 t1 t2 x row fits a h l).calm
apart_calm s p row fits a (after_withdrawal v g c k t0 t1 t2 t3 e h) alone calm l =
    (from_withdrawn s p v g c k t0 t1 t2 t3 row a e h l).calm
apart_calm s p row fits a (after_answer g c k t0 t1 t2 t3 x h) alone calm l =
    (from_answered s p g c k t0 t1 t2 t3 x row a h l).calm
apart_calm s p row fits a (after_takeover c k t0 t1 t2 t3 t4 x e f h) alone calm l =
    (from_resumed s p c k t0 t1 t2 t3 t4 x row a e f h l).calm
apart_calm s p row fits a (in_reset h) alone calm l = wrong (sym h.reset ∙ calm)
apart_calm s p row fits a (in_connection n f g h) alone calm l = some_none n (sym f ∙ alone)

-- ---- what is put down

abbrev pub puts_ids : List Row → Row → Bool
puts_ids p row = falls (bus p).bsy (bus (row ∷ p)).bsy && (bus (row ∷ p)).sel

-- Where the device of the row does not raise RST with it.
pub unraised : (s : ScenarioValue) (p : List Row) (row : Row) (xs : List Sample)
    → (driven_after row.kind (drives p row.dev)).rst ≡ false
    → (if rises (drives p row.dev).rst (driven_after row.kind (drives p row.dev)).rst then kept_samples row xs
    else if puts_ids p row then samples_with_ids s (call (row ∷ p)) row.time xs
    else samples_with_byte (receiver (row ∷ p)) row.time xs)
    ≡ (if puts_ids p row then samples_with_ids s (call (row ∷ p)) row.time xs
    else samples_with_byte (receiver (row ∷ p)) row.time xs)
unraised s p row xs e = ap (λ (q : Bool). if q then kept_samples row xs
    else if puts_ids p row then samples_with_ids s (call (row ∷ p)) row.time xs
    else samples_with_byte (receiver (row ∷ p)) row.time xs)
    ((λ i. rises (drives p row.dev).rst (e i)) ∙ and_false (not (drives p row.dev).rst))

calm_puts : (s : ScenarioValue) (p : List Row) (row : Row) → row.dev < 8 → (bus (row ∷ p)).rst ≡ false
    → samples s (row ∷ p) ≡ (if puts_ids p row then samples_with_ids s (call (row ∷ p)) row.time (samples s p)
    else samples_with_byte (receiver (row ∷ p)) row.time (samples s p))
calm_puts s p row lt off = unraised s p row (samples s p)
    (ap (λ (l : LineSet). l.rst) (sym (drives_next p row)) ∙ off_at (row ∷ p) off row.dev lt)

-- ---- no connection stands after it

puts_apart : (s : ScenarioValue) (p : List Row) (row : Row) → row.dev < 8 → (bus (row ∷ p)).rst ≡ false
    → connection (row ∷ p) ≡ None → receiver (row ∷ p) ≡ None → IdsOn s p row → Puts s p row
puts_apart s p row lt off alone none w =
    record {
      calm = off;
      puts = calm_puts s p row lt off
          ∙ ap (λ (o : Option ℕ). if puts_ids p row then samples_with_ids s (call (row ∷ p)) row.time (samples s p)
          else samples_with_byte o row.time (samples s p)) none
          ∙ w.puts (samples s p) ∙ (λ i. with_awaited (awaited_by s (row ∷ p) (sym off i) (sym alone i)) (samples s p));
      next = λ a b e past. go a b past (awaited_of s (row ∷ p) a off e);
      crossed = λ n d en c er. some_none n (sym en ∙ alone);
    }
  where
    go : (a b : Sample) → IsPast s (row ∷ p) b → Awaited s (row ∷ p) a → Precedes b a
    go a b past (of_byte n d en er same) = some_none n (sym en ∙ alone)
    go a b past (of_ids en z) = let t = w.now a z in let u = past.time in sooner_precedes a b (omega (arith, t, u))

-- ---- a connection stands after it

byte_put : (o : Option ℕ) (time : ℕ) (xs : List Sample) → samples_with_byte o time xs ≡ with_awaited (byte_at time o) xs
byte_put None time xs = refl
byte_put (Some d) time xs = refl

puts_linked : (s : ScenarioValue) (p : List Row) (row : Row) (n : Connection) → row.dev < 8 → AnyStage s (row ∷ p)
    → (bus (row ∷ p)).rst ≡ false → connection (row ∷ p) ≡ Some n → puts_ids p row ≡ false → HasCrossed (row ∷ p)
    → Puts s p row
puts_linked s p row n lt here off en unput crossed =
    record {
      calm = off;
      puts = calm_puts s p row lt off
          ∙ ap (λ (q : Bool). if q then samples_with_ids s (call (row ∷ p)) row.time (samples s p)
          else samples_with_byte (receiver (row ∷ p)) row.time (samples s p)) unput
          ∙ byte_put (receiver (row ∷ p)) row.time (samples s p)
          ∙ (λ i. with_awaited (awaited_by s (row ∷ p) (sym off i) (sym en i)) (samples s p));
      next = λ a b e past. go a b past (awaited_of s (row ∷ p) a off e);
      crossed = crossed;
    }
  where
    go : (a b : Sample) → IsPast s (row ∷ p) b → Awaited s (row ∷ p) a → Precedes b a
    go a b past (of_byte m d em er same) = subst (Precedes b) (sym same)
        (precedes_byte s (row ∷ p) m d b (linked_of s (row ∷ p) m here off em) em off er (crossed m d em off er) past)
    go a b past (of_ids em z) = some_none n (sym en ∙ em)

-- ---- a row outside a connection

fell_false : (a b : Bool) → falls a b ≡ true → b ≡ false
fell_false true true e = wrong' e
fell_false true false e = refl
fell_false false b e = wrong' e

pub apart_puts : (s : ScenarioValue) (p : List Row) (row : Row) → Moment s p row → (bus p).rst ≡ false
    → connection p ≡ None → CalmStanding s p → IsLeast (unreset_due s p) 8 row → Puts s p row
apart_puts s p row m calm alone always least = by_option (connection (row ∷ p)) (λ e. puts_apart s p row least.inside
    off e none (ids_on s p row m.fits always stage alone calm (apart_of s (row ∷ p) m.next e) off e least))
    (λ n e. let made = made_is p row n alone e in puts_linked s p row n least.inside m.next off e
    ((λ i. falls (bus p).bsy (bus (row ∷ p)).bsy && fell_false (bus p).sel (bus (row ∷ p)).sel made.sel i)
    ∙ and_false (falls (bus p).bsy (bus (row ∷ p)).bsy)) (λ k d ek c er. none_some d (sym none ∙ er)))
  where
    stage : BusStage s p
    stage = apart_of s p m.here alone

    off : (bus (row ∷ p)).rst ≡ false
    off = apart_calm s p row m.fits always stage alone calm least

    none : receiver (row ∷ p) ≡ None
    none = ap (λ (o : Option Connection). receiver_of o (change_of p row)) alone

-- ---- a row of a connection

still_on : (p : List Row) (row : Row) (m n : Connection) → connection p ≡ Some m → connection (row ∷ p) ≡ Some n
    → ((bus (row ∷ p)).bsy ≡ true) × (m ≡ n)
still_on p row m n e f = go (bus (row ∷ p)).bsy refl
    (sym (ap (λ (o : Option Connection). connection_after o (call p) (change_of p row) row) e) ∙ f)
  where
    go : (q : Bool) → (bus (row ∷ p)).bsy ≡ q → (if (bus (row ∷ p)).bsy then Some m else None) ≡ Some n
        → ((bus (row ∷ p)).bsy ≡ true) × (m ≡ n)
    go true b z = (b, same_Some m n (sym (ap (λ (q : Bool). if q then Some m else None) b) ∙ z))
    go false b z = none_some n (sym (ap (λ (q : Bool). if q then Some m else None) b) ∙ z)

stands_still : (q : List Row) (n : Connection) (d : ℕ) → Crossed q n d → connection q ≡ Some n
stands_still q n d (into_initiator f h b here io req ack since) = h.stands.connection_is
stands_still q n d (into_target f h b here io bsy ack req since) = h.stands.connection_is

pub linked_puts : (s : ScenarioValue) (p : List Row) (row : Row) (n : Connection) → Moment s p row → LinkStage s p n
    → connection p ≡ Some n → CalmStanding s p → IsLeast (unreset_due s p) 8 row → Puts s p row
linked_puts s p row n m h en always least = by (crossing s p row n (link_row s p row n always.devices h least))
  where
    apart_from : (bus (row ∷ p)).rst ≡ false → connection (row ∷ p) ≡ None → receiver (row ∷ p) ≡ None → Puts s p row
    apart_from off e none = puts_apart s p row least.inside off e none
        (ids_fresh s p row (ap (λ (l : LineSet). l.sel) (sides_are s p n h).1.stands.bus_is))

    unput : (f : Connection) → connection (row ∷ p) ≡ Some f → puts_ids p row ≡ false
    unput f e =
        let w = still_on p row n f en e in
        (λ i. falls (bus p).bsy (w.0 i) && (bus (row ∷ p)).sel)
        ∙ ap (λ (q : Bool). q && (bus (row ∷ p)).sel) (and_false (bus p).bsy)

    crossed_by : (d : ℕ) → receiver (row ∷ p) ≡ Some d → Crossed (row ∷ p) n d → HasCrossed (row ∷ p)
    crossed_by d r x f g ek c er =
        let w = still_on p row n f en ek in
        subst (λ (y : Connection). Crossed (row ∷ p) y g) w.1
        (subst (Crossed (row ∷ p) n) (same_device d g (sym r ∙ er)) x)
      where
        same_device : (a b : ℕ) → (let o : Option ℕ = Some a in o) ≡ Some b → a ≡ b
        same_device a b z = cc

    by : Crossing p row n → Puts s p row
    by (carries_none off none) = by_option (connection (row ∷ p)) (λ e. apart_from off e none) (λ f e. puts_linked s p
        row f least.inside m.next off e (unput f e) (λ j d ej c er. none_some d (sym none ∙ er)))
    by (carries d off r x) =
        let e = stands_still (row ∷ p) n d x in
        puts_linked s p row n least.inside m.next off e (unput n e) (crossed_by d r x)
