-- The byte of COMMAND COMPLETE is asked for and answered once (6.1.5.1).
use Rattle.trace_laws.proofs
use proofs.Names.{inl, inr, ℕ, ◌≡◌, ◌⊎◌, ◌<◌, Bool, true, false, not, ◌&&◌, ◌==◌, ◌∙◌, List, ◌∷◌, length, Some, None}
use proofs.Names.{refl, sym, ap, subst, arith, if◌then◌else◌, is_some, wrong, wrong', counted_on, change_of, rises}
use proofs.Names.{falls, LineSet, changes_phase, is_message_in, receiver_in, is_fault, bus, drives, Kind, Drives, Fault}
use proofs.Names.{Row, Change, Connection, struck_same, Handshakes, handshakes, no_handshakes, handshakes_after}
use proofs.Names.{answered_if, asked_if, ScenarioValue, bytes_of_messages, Messages, run_state_plain, IsPlain}
use proofs.Names.{AreOfDevices, RunState, bus_of, run_state, run_state_after, InConnection, in_connection}
use proofs.Names.{same_phase_is, in_io, in_same, RowKind, still, strikes, crosses, turns, GoesOn, change_plain}
use proofs.Names.{fault_change, BeginsConnection, by_selection, by_reselection, change_to, no_rise, counted_some}
use proofs.Names.{LinkStage, when_selected, when_settling, when_turning, when_offering, when_shaking, when_pulsing}
use proofs.Names.{IsFirst, awaits, stays_as, struck_answers, Alternates, IsCompleting, CloseCounts}

-- ---- the counts after a row with which the phase stays

answers_by : (q r : Bool) (t : ℕ) (h : Handshakes)
    → (answered_if q t (asked_if r t h)).answers ≡ (if q then counted_on h.answers else h.answers)
answers_by true true t h = refl
answers_by true false t h = refl
answers_by false true t h = refl
answers_by false false t h = refl

requests_by : (q r : Bool) (t : ℕ) (h : Handshakes)
    → (answered_if q t (asked_if r t h)).requests ≡ (if r then counted_on h.requests else h.requests)
requests_by true true t h = refl
requests_by true false t h = refl
requests_by false true t h = refl
requests_by false false t h = refl

pub record Counted (c : Change) (h g : Handshakes) : Type 0 where
  pub answers : g.answers ≡ (if rises c.before.ack c.after.ack then counted_on h.answers else h.answers)
  pub requests : g.requests ≡ (if rises c.before.req c.after.req then counted_on h.requests else h.requests)

pub counted : (n : Connection) (c : Change) (t : ℕ) (h : Handshakes) → changes_phase c ≡ false
    → Counted c h (handshakes_after false (Some n) c t h)
counted n c t h e = record {
  answers = (λ i. (if e i then no_handshakes
      else answered_if (rises c.before.ack c.after.ack) t (asked_if (rises c.before.req c.after.req) t h)).answers)
      ∙ answers_by (rises c.before.ack c.after.ack) (rises c.before.req c.after.req) t h;
  requests = (λ i. (if e i then no_handshakes
      else answered_if (rises c.before.ack c.after.ack) t (asked_if (rises c.before.req c.after.req) t h)).requests)
      ∙ requests_by (rises c.before.ack c.after.ack) (rises c.before.req c.after.req) t h;
}

-- A fault row changes no line.
pub counted_fault : (s : ScenarioValue) (p : List Row) (row : Row) (c : Change) (n : Connection) (h : Handshakes)
    → c ≡ change_of p row → is_fault row.kind ≡ true → Counted c h (handshakes_after true (Some n) c row.time h)
counted_fault s p row c n h is fault = go row.kind refl
  where
    by : rises c.before.ack c.after.ack ≡ false → rises c.before.req c.after.req ≡ false
        → Counted c h (handshakes_after true (Some n) c row.time h)
    by e f = record {
      answers = struck_answers c.before.io h ∙ (λ i. if sym e i then counted_on h.answers else h.answers);
      requests = struck_same c.before.io h ∙ (λ i. if sym f i then counted_on h.requests else h.requests);
    }

    go : (x : Kind) → row.kind ≡ x → Counted c h (handshakes_after true (Some n) c row.time h)
    go (Drives lines) f = wrong (sym fault ∙ ap is_fault f)
    go (Fault bit) f =
        let o : LineSet = drives p row.dev in
        let same : c ≡ change_to (bus p) (bus p) o o = is
        ∙ (λ i. change_of p (record { time = row.time; dev = row.dev; kind = f i }))
        ∙ fault_change p row.time row.dev bit (bus p) o refl refl in
        by (ap (λ (x : Change). rises x.before.ack x.after.ack) same ∙ no_rise (bus p).ack)
        (ap (λ (x : Change). rises x.before.req x.after.req) same ∙ no_rise (bus p).req)

-- ---- the step

pub same_answers : (q : Bool) (a b : ℕ) → b ≡ (if q then counted_on a else a) → q ≡ false → (b == 0) ≡ (a == 0)
same_answers true a b e f = wrong f
same_answers false a b e f = ap (λ (x : ℕ). x == 0) e

some_counted : (q : Bool) (a b : ℕ) → b ≡ (if q then counted_on a else a) → (q ≡ true) ⊎ ((a == 0) ≡ false)
    → (b == 0) ≡ false
some_counted true a b e f = ap (λ (x : ℕ). x == 0) e ∙ counted_some a
some_counted false a b e (inl z) = wrong' z
some_counted false a b e (inr z) = ap (λ (x : ℕ). x == 0) e ∙ z

-- The byte that awaits its ACK did before, or REQ rose with the row; and ACK did not.
asks_still : (b a : LineSet) → Alternates b a → awaits a ≡ true
    → ((rises b.req a.req ≡ true) ⊎ (awaits b ≡ true)) × (rises b.ack a.ack ≡ false)
asks_still b a t e = go b.req b.ack a.req a.ack t.asks t.ends_asking t.answers t.ends_answer e
  where
    go : (r q r' k' : Bool) → (rises r r' ≡ true → not q ≡ true) → (falls r r' ≡ true → q ≡ true)
        → (rises q k' ≡ true → r ≡ true) → (falls q k' ≡ true → not r ≡ true) → (r' && not k') ≡ true
        → ((rises r r' ≡ true) ⊎ ((r && not q) ≡ true)) × (rises q k' ≡ false)
    go true true true false x y z w e = wrong' (w refl)
    go true false true false x y z w e = (inr refl, refl)
    go false true true false x y z w e = wrong' (x refl)
    go false false true false x y z w e = (inl refl, refl)
    go r q true true x y z w e = wrong' e
    go r q false k' x y z w e = wrong' e

-- None awaits it: it was so before, where REQ did not rise; or ACK rose.
answered_now : (b a : LineSet) → Alternates b a → awaits a ≡ false
    → (rises b.ack a.ack ≡ true) ⊎ ((rises b.req a.req ≡ false) × (awaits b ≡ false))
answered_now b a t e = go b.req b.ack a.req a.ack t.asks t.ends_asking t.answers t.ends_answer e
  where
    go : (r c r' k' : Bool) → (rises r r' ≡ true → not c ≡ true) → (falls r r' ≡ true → c ≡ true)
        → (rises c k' ≡ true → r ≡ true) → (falls c k' ≡ true → not r ≡ true) → (r' && not k') ≡ false
        → (rises c k' ≡ true) ⊎ ((rises r r' ≡ false) × ((r && not c) ≡ false))
    go true true r' k' x y z w e = inr ((elim r' as (λ q. rises true q ≡ false) [ true ↦ refl | false ↦ refl ]), refl)
    go true false true true x y z w e = inl refl
    go true false true false x y z w e = wrong e
    go true false false k' x y z w e = wrong' (y refl)
    go false true true k' x y z w e = wrong' (x refl)
    go false true false k' x y z w e = inr (refl, refl)
    go false false true true x y z w e = wrong' (z refl)
    go false false true false x y z w e = wrong e
    go false false false true x y z w e = wrong' (z refl)
    go false false false false x y z w e = inr (refl, refl)

same_requests : (q : Bool) (a b : ℕ) → b ≡ (if q then counted_on a else a) → q ≡ false → (b == 0) ≡ false
    → (a == 0) ≡ false
same_requests true a b e f z = wrong f
same_requests false a b e f z = sym (ap (λ (x : ℕ). x == 0) e) ∙ z

-- ---- no byte was asked for

pub none_answered : (s : ScenarioValue) (p : List Row) (n : Connection) (h : Handshakes) → LinkStage s p n
    → is_message_in (bus p) ≡ true → h ≡ handshakes p → h.requests ≡ 0 → (h.answers == 0) ≡ true
none_answered s p n h (when_selected x) here e zero = wrong' (sym (ap is_message_in x.linked.stands.bus_is) ∙ here)
none_answered s p n h (when_settling bsy atn msg cd io y x) here e zero =
    ap (λ (z : Handshakes). z.answers == 0) (e ∙ x.quiet)
none_answered s p n h (when_turning atn y msg cd x) here e zero = ap (λ (z : Handshakes). z.answers == 0) (e ∙ x.quiet)
none_answered s p n h (when_offering atn msg cd y x) here e zero = ap (λ (z : Handshakes). z.answers == 0) (e ∙ x.quiet)
none_answered s p n h (when_shaking msg cd io req ack atn x y w) here e zero =
    wrong (sym (ap (λ (z : ℕ). z == 0) (sym (ap (λ (z : Handshakes). z.requests) e) ∙ zero)) ∙ w.asked)
none_answered s p n h (when_pulsing io req ack atn x y w a) here e zero =
    wrong' (sym (ap is_message_in w.linked.stands.bus_is) ∙ here)

-- REQ is true: it rose in the phase.
pub asked_for : (s : ScenarioValue) (p : List Row) (n : Connection) (h : Handshakes) → LinkStage s p n
    → is_message_in (bus p) ≡ true → h ≡ handshakes p → (bus p).req ≡ true → (h.requests == 0) ≡ false
asked_for s p n h (when_selected x) here e on = wrong' (sym (ap is_message_in x.linked.stands.bus_is) ∙ here)
asked_for s p n h (when_settling bsy atn msg cd io y x) here e on =
    wrong' (sym (ap (λ (l : LineSet). l.req) x.linked.stands.bus_is) ∙ on)
asked_for s p n h (when_turning atn y msg cd x) here e on =
    wrong' (sym (ap (λ (l : LineSet). l.req) x.linked.stands.bus_is) ∙ on)
asked_for s p n h (when_offering atn msg cd y x) here e on =
    wrong' (sym (ap (λ (l : LineSet). l.req) x.linked.stands.bus_is) ∙ on)
asked_for s p n h (when_shaking msg cd io req ack atn x y w) here e on =
    ap (λ (z : Handshakes). z.requests == 0) e ∙ w.asked
asked_for s p n h (when_pulsing io req ack atn x y w a) here e on =
    wrong' (sym (ap is_message_in w.linked.stands.bus_is) ∙ here)

none_before : (i m : ℕ) → i < m → m ≡ 1 → i ≡ 0
none_before i m e f = omega (arith, e, f)

pub phase_line : (c : Change) → changes_phase c ≡ false → is_message_in c.after ≡ true → is_message_in c.before ≡ true
phase_line c e z = let w = same_phase_is c e in sym (in_same c.before c.after w) ∙ z

-- ---- a row

pub counted_row : (s : ScenarioValue) (p : List Row) (row : Row) (n : Connection) (c : Change)
    → row.dev < 8 → AreOfDevices p → GoesOn s (run_state s p) row n c → changes_phase c ≡ false
    → Counted c (run_state s p).handshakes (run_state s (row ∷ p)).handshakes
counted_row s p row n c lt dv g ep =
    subst (λ (x : Handshakes). Counted c k.handshakes x) (sym (in_connection s k row n c false
    (is_some (receiver_in n c)) (is_fault row.kind) g.row_is ep refl refl).handshakes_is) (by (is_fault row.kind) refl)
  where
    k : RunState
    k = run_state s p

    by : (q : Bool) → is_fault row.kind ≡ q
        → Counted c k.handshakes (handshakes_after q (Some n) c row.time k.handshakes)
    by true e = counted_fault s p row c n k.handshakes (sym g.row_is.change_is ∙ change_plain s row p dv lt) e
    by false e = counted n c row.time k.handshakes ep

pub counts_stay : (s : ScenarioValue) (p : List Row) (row : Row) (n : Connection) (c : Change) → row.dev < 8
    → AreOfDevices p → LinkStage s p n → GoesOn s (run_state s p) row n c → changes_phase c ≡ false
    → (is_message_in c.before ≡ true → Alternates c.before c.after) → CloseCounts (run_state s p)
    → CloseCounts (run_state s (row ∷ p))
counts_stay s p row n c lt dv stage g ep alternates was = record { asked = asked; given = given }
  where
    k : RunState
    k = run_state s p

    j : RunState
    j = run_state_after s k row

    pl : IsPlain s p k
    pl = run_state_plain s p dv

    now : Bool
    now = is_some (receiver_in n c)

    i : InConnection s k row n c false now (is_fault row.kind)
    i = in_connection s k row n c false now (is_fault row.kind) g.row_is ep refl refl

    counts : Counted c k.handshakes j.handshakes
    counts = counted_row s p row n c lt dv g ep

    before : is_message_in (bus_of j) ≡ true → is_message_in c.before ≡ true
    before z = phase_line c ep (sym (ap is_message_in i.bus_is) ∙ z)

    there : is_message_in (bus_of j) ≡ true → is_message_in (bus_of k) ≡ true
    there z = ap is_message_in g.row_is.bus_is ∙ before z

    asked : is_message_in (bus_of j) ≡ true → IsCompleting j → awaits (bus_of j) ≡ true
        → (j.handshakes.answers == 0) ≡ true
    asked here m a =
        let x = asks_still c.before c.after (alternates (before here)) (sym (ap awaits i.bus_is) ∙ a) in
        same_answers (rises c.before.ack c.after.ack) k.handshakes.answers j.handshakes.answers counts.answers x.1
        ∙ by x.0
      where
        messages : IsCompleting k
        messages = sym (stays_as s k row n c now g.row_is ep refl).plan.messages ∙ m

        by : (rises c.before.req c.after.req ≡ true) ⊎ (awaits c.before ≡ true) → (k.handshakes.answers == 0) ≡ true
        by (inr z) = was.asked (there here) messages (ap awaits g.row_is.bus_is ∙ z)
        by (inl z) =
            let crosses : now ≡ true = λ t. is_some
            (if in_io c.before (before here) t then (if z t then Some n.initiator else None)
            else (if rises c.before.ack c.after.ack then Some n.target else None)) in
            let less = (g.gives (before here) crosses).1 in
            none_answered s p n k.handshakes stage (sym (ap is_message_in pl.bus) ∙ there here) pl.handshakes
            (none_before k.handshakes.requests (length (bytes_of_messages k.exchange.plan.messages)) less
            (ap (λ (y : Messages). length (bytes_of_messages y)) messages))

    given : is_message_in (bus_of j) ≡ true → (j.handshakes.requests == 0) ≡ false → awaits (bus_of j) ≡ false
        → (j.handshakes.answers == 0) ≡ false
    given here some a = by (answered_now c.before c.after (alternates (before here)) (sym (ap awaits i.bus_is) ∙ a))
      where
        by : (rises c.before.ack c.after.ack ≡ true)
            ⊎ ((rises c.before.req c.after.req ≡ false) × (awaits c.before ≡ false))
            → (j.handshakes.answers == 0) ≡ false
        by (inl z) = some_counted (rises c.before.ack c.after.ack) k.handshakes.answers j.handshakes.answers
            counts.answers (inl z)
        by (inr z) = some_counted (rises c.before.ack c.after.ack) k.handshakes.answers j.handshakes.answers
            counts.answers (inr (was.given (there here) (same_requests (rises c.before.req c.after.req)
            k.handshakes.requests j.handshakes.requests counts.requests z.0 some) (ap awaits g.row_is.bus_is ∙ z.1)))

-- Where none was asked for.
pub fresh_counts : (k : RunState) → (is_message_in (bus_of k) ≡ true → k.handshakes ≡ no_handshakes) → CloseCounts k
fresh_counts k e = record {
  asked = λ here m a. ap (λ (h : Handshakes). h.answers == 0) (e here);
  given = λ here some a. wrong (sym (ap (λ (h : Handshakes). h.requests == 0) (e here)) ∙ some);
}

pub turn_handshakes : (s : ScenarioValue) (k : RunState) (row : Row) (n : Connection) (c : Change) → GoesOn s k row n c
    → changes_phase c ≡ true → is_fault row.kind ≡ false → (run_state_after s k row).handshakes ≡ no_handshakes
turn_handshakes s k row n c g ep ef =
    (in_connection s k row n c true (is_some (receiver_in n c)) false g.row_is ep refl ef).handshakes_is
    ∙ (λ t. handshakes_after (ef t) (Some n) c row.time k.handshakes)
    ∙ (λ t. if ep t then no_handshakes else answered_if (rises c.before.ack c.after.ack) row.time
    (asked_if (rises c.before.req c.after.req) row.time k.handshakes))

counts_turn : (s : ScenarioValue) (k : RunState) (row : Row) (n : Connection) (c : Change) → GoesOn s k row n c
    → changes_phase c ≡ true → is_fault row.kind ≡ false → CloseCounts (run_state_after s k row)
counts_turn s k row n c g ep ef = fresh_counts (run_state_after s k row) (λ here. turn_handshakes s k row n c g ep ef)

pub counts_goes : (s : ScenarioValue) (p : List Row) (row : Row) (n : Connection) (c : Change)
    → row.dev < 8 → AreOfDevices p → LinkStage s p n → GoesOn s (run_state s p) row n c
    → (is_message_in c.before ≡ true → Alternates c.before c.after) → CloseCounts (run_state s p)
    → CloseCounts (run_state s (row ∷ p))
counts_goes s p row n c lt dv stage g alternates was = go g.row_is.kind
  where
    go : RowKind row n c → CloseCounts (run_state s (row ∷ p))
    go (still ef ep er) = counts_stay s p row n c lt dv stage g ep alternates was
    go (strikes ef ep er) = counts_stay s p row n c lt dv stage g ep alternates was
    go (crosses dev ef ep er) = counts_stay s p row n c lt dv stage g ep alternates was
    go (turns ef ep er) = counts_turn s (run_state s p) row n c g ep ef

pub first_handshakes : (s : ScenarioValue) (p : List Row) (row : Row) (n : Connection) → AreOfDevices p
    → row.dev < 8 → IsFirst s p row n → is_message_in (bus_of (run_state s (row ∷ p))) ≡ true
    → (run_state s (row ∷ p)).handshakes ≡ no_handshakes
first_handshakes s p row n dv lt f here = go f.begins
  where
    q : List Row
    q = row ∷ p

    ql : IsPlain s q (run_state s q)
    ql = run_state_plain s q (lt, dv)

    go : BeginsConnection q n → (run_state s q).handshakes ≡ no_handshakes
    go (by_selection h) = wrong' (sym (ap is_message_in (ql.bus ∙ h.linked.stands.bus_is)) ∙ here)
    go (by_reselection y h) = ql.handshakes ∙ h.handshakes_are
