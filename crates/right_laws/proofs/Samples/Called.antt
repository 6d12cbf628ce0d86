-- The IDs that a called device samples: what the next row makes of them while no connection stands and RST is false.
use Rattle.right_laws.proofs
use proofs.Names.{ℕ, ◌≡◌, ◌≢◌, inl, inr, ◌<◌, ◌+◌, ◌^◌, Bool, true, false, not, ◌&&◌, ◌==◌, ◌∙◌, List, ◌∷◌, Option}
use proofs.Names.{Some, None, refl, sym, ap, subst, arith, cases_eq, ne_eqb, same_Some, if◌then◌else◌, is_some, wrong}
use proofs.Names.{wrong', eq_self, bus_one, change_of, rises, falls, LineSet, none, call, calling_after, caller_goes_on}
use proofs.Names.{called_goes_on, connection, drives_two_ids, new_calling, when, is_fault, bus, drives, driven_after}
use proofs.Names.{since_line, Row, Change, Connection, BUS_SETTLE_DELAY, Call, Calling, stage, InCalling, ScenarioValue}
use proofs.Names.{Sample, latency_of, samples_with_ids, due_at, fault_or, IsLeast, drives_own, drives_other, since_is}
use proofs.Names.{stage_is, stands_after, asks_due, before_due, waits_due, answers_due, aside_due, flip_at, only_caller}
use proofs.Names.{ids_not_zero, answer_exists, is_there, is_at, answer_lines, awaiting_call, begun_call, both_ids}
use proofs.Names.{calling_lines, new_calling_at, own_time, unreset_due, row_of_lines, HasShortLatencies, CalmStanding}
use proofs.Names.{BusStage, on_free_bus, in_arbitration, after_arbitration, with_both_ids, awaiting_answer}
use proofs.Names.{after_withdrawal, after_answer, after_takeover, in_reset, AwaitsAnswer, Calls, due_of, none_some}
use proofs.{Names.{by_option, is_asked, ids_at, ids_of, awaited_ids}, Samples.Calls.{Follows, calling_follows, GoesOn}}
use proofs.Samples.Calls.{call_goes, answered_unasked, withdrawn_unasked, struck_unasked, unreleased_unasked, ids_none}
use proofs.Samples.{Calls.{ids_unsampled, ids_sampled, with_awaited}, Takes.{Takes, Awaits, fault_at, lines_at}}
use proofs.Samples.Takes.{time_at}
use Rattle.trace_laws.specs.bus_laws.specs.Stages.{in_connection}

-- ---- the called device samples next

pub ids_await : (s : ScenarioValue) (p : List Row) (m : Bool) (c l t0 t1 t2 x lat : ℕ) → HasShortLatencies s
    → CalmStanding s p → AwaitsAnswer s p false m c l t0 t1 t2 x → latency_of s l ≡ Some lat
    → Awaits s p (record { time = since_line (λ z. z.bsy) p + BUS_SETTLE_DELAY + lat; dev = l })
ids_await s p m c l t0 t1 t2 u lat fits always a there =
    record {
      below = h.called_below;
      struck = λ bit e. due ∙ ap (λ (o : Option ℕ). fault_or time o (due_at time answer_lines)) e;
      takes = λ row least. takes row least;
    }
  where
    h : Calls s p (awaiting_call false m c l t0 t1 t2) c l (calling_lines m false u) none (calling_lines m false u)
    h = a.here

    time : ℕ
    time = since_line (λ z. z.bsy) p + BUS_SETTLE_DELAY + lat

    was : stage p ≡ InCalling (awaiting_call false m c l t0 t1 t2)
    was = stage_is p _ _ _ _ h.stands

    due : unreset_due s p l ≡ fault_or (since_line (λ z. z.bsy) p + BUS_SETTLE_DELAY + lat) (flip_at s p lat)
        (due_at (since_line (λ z. z.bsy) p + BUS_SETTLE_DELAY + lat) answer_lines)
    due = answers_due s p m c l t0 t1 t2 lat always.devices h.called_below there h.stands.connection_is h.apart was
        h.other

    acts : (row : Row) → row.dev ≡ l → fault_or time (flip_at s p lat) (due_at time answer_lines) ≡ Some (due_of row)
        → Takes s p row (record { time = time; dev = l })
    acts row same e =
        let at = time_at time answer_lines (due_of row) (flip_at s p lat) e in
        record {
          order = inr (sym at, omega (arith, same));
          struck = λ bit f.
              let z = fault_at time bit (due_at time answer_lines) (due_of row) (flip_at s p lat) f e in
              λ i. record { time = z.0 i; dev = same i; kind = z.1 i };
          plain = λ f. lines_at time answer_lines (due_of row) (flip_at s p lat) f e;
        }

    takes : (row : Row) → IsLeast (unreset_due s p) 8 row → Takes s p row (record { time = time; dev = l })
    takes row least =
        let w = is_there s p row.dev (due_of row) least.is_due in
        elim (cases_eq row.dev c) [
          | inl same ↦
              let z = is_at (t2 + 250000000 + w.0) (record (calling_lines m false u) { data_bits = 0 }) (due_of row)
              (sym (waits_due s p false m c l t0 t1 t2 w.0 (calling_lines m false u) always.devices h.caller_below
              (ap (latency_of s) (sym same) ∙ w.1) h.stands.connection_is was h.caller)
              ∙ ap (unreset_due s p) (sym same) ∙ least.is_due) in
              let y = answer_exists time (flip_at s p lat) answer_lines in
              let v = least.first l h.called_below y.0 (due ∙ y.1.0) in
              let at = z.time_is in
              let yt = y.1.1 in
              let short = fits.latency l lat there in
              let age = a.bsy_age in
              absurd (omega (arith, v, at, yt, short, age))
          | inr nc ↦ elim (cases_eq row.dev l) [
            | inl same ↦ acts row same (sym due ∙ ap (unreset_due s p) (sym same) ∙ least.is_due)
            | inr nk ↦ absurd
                (none_some (due_of row) (sym (aside_due s p false m c l t0 t1 t2 row.dev w.0 always.devices least.inside
                w.1 h.stands.connection_is (λ z. nc (sym z)) (λ z. nk (sym z)) was (h.rest row.dev least.inside nc nk))
                ∙ least.is_due))
          ]
        ]

-- ---- in one stage alone

no_asked : {A : Type 0} (s : ScenarioValue) (p : List Row) (a : Sample) (o : Option Call) → call p ≡ o
    → awaited_ids s (since_line (λ z. z.bsy) p) o ≡ None → awaited_ids s (since_line (λ z. z.bsy) p) (call p) ≡ Some a
    → A
no_asked s p a o eo none e = none_some a (sym none ∙ ap (awaited_ids s (since_line (λ z. z.bsy) p)) (sym eo) ∙ e)

pub apart_awaits : (s : ScenarioValue) (p : List Row) (a : Sample) → HasShortLatencies s
    → CalmStanding s p → BusStage s p → connection p ≡ None → (bus p).rst ≡ false
    → awaited_ids s (since_line (λ z. z.bsy) p) (call p) ≡ Some a → Awaits s p a
apart_awaits s p a fits always (on_free_bus h) alone calm e = no_asked s p a None h.stands.call_is refl e
apart_awaits s p a fits always (in_arbitration b h) alone calm e = no_asked s p a None h.stands.call_is refl e
apart_awaits s p a fits always (after_arbitration c t h) alone calm e = no_asked s p a _ h.stands.call_is refl e
apart_awaits s p a fits always (with_both_ids m c k t0 t z h) alone calm e = no_asked s p a _ h.stands.call_is refl e
apart_awaits s p a fits always (awaiting_answer true m c k t0 t1 t2 x h) alone calm e =
    no_asked s p a _ h.here.stands.call_is refl e
apart_awaits s p a fits always (awaiting_answer false m c k t0 t1 t2 x h) alone calm e =
    by_option (latency_of s k) (λ there. no_asked s p a _ h.here.stands.call_is
    (ap (λ (o : Option ℕ). ids_at o k (since_line (λ z. z.bsy) p)) there) e) (λ lat there. subst
    (Awaits s p) (same_Some _ a (sym (ap (awaited_ids s (since_line (λ z. z.bsy) p)) h.here.stands.call_is
    ∙ ap (λ (o : Option ℕ). ids_at o k (since_line (λ z. z.bsy) p)) there) ∙ e))
    (ids_await s p m c k t0 t1 t2 x lat fits always h there))
apart_awaits s p a fits always (after_withdrawal v m c k t0 t1 t2 t3 z h) alone calm e =
    no_asked s p a _ h.stands.call_is refl e
apart_awaits s p a fits always (after_answer m c k t0 t1 t2 t3 x h) alone calm e =
    no_asked s p a _ h.here.stands.call_is refl e
apart_awaits s p a fits always (after_takeover c k t0 t1 t2 t3 t4 x z f h) alone calm e =
    no_asked s p a _ h.here.stands.call_is refl e
apart_awaits s p a fits always (in_reset h) alone calm e = wrong (sym h.reset ∙ calm)
apart_awaits s p a fits always (in_connection n f g h) alone calm e = absurd (some_none n (sym f ∙ alone))
  where
    some_none : (n : Connection) → Some n ≡ None → ⊥
    some_none n z = absurd cc

-- ---- what the row puts down of them

-- Where BSY falls while SEL is true the IDs are to be sampled, and else not.
pub record IdsOn (s : ScenarioValue) (p : List Row) (row : Row) : Type 0 where
  pub puts : (xs : List Sample) → (if falls (bus p).bsy (bus (row ∷ p)).bsy && (bus (row ∷ p)).sel
      then samples_with_ids s (call (row ∷ p)) row.time xs else xs)
      ≡ with_awaited (awaited_ids s (since_line (λ z. z.bsy) (row ∷ p)) (call (row ∷ p))) xs
  pub now : (a : Sample) → awaited_ids s (since_line (λ z. z.bsy) (row ∷ p)) (call (row ∷ p)) ≡ Some a
      → row.time < a.time

ids_on_by : (s : ScenarioValue) (p : List Row) (row : Row)
    → ((c : Call) (h : Calling) → call (row ∷ p) ≡ Some c → c.calling ≡ Some h → is_asked h ≡ false)
    → ((falls (bus p).bsy (bus (row ∷ p)).bsy && (bus (row ∷ p)).sel) ≡ true → (c : Call) (h : Calling)
    → call (row ∷ p) ≡ Some c → c.calling ≡ Some h → is_some h.answered ≡ true) → IdsOn s p row
ids_on_by s p row unasked answered =
    record {
      puts = λ xs. go xs (falls (bus p).bsy (bus (row ∷ p)).bsy && (bus (row ∷ p)).sel) refl
          ∙ ap (λ (o : Option Sample). with_awaited o xs) (sym none);
      now = λ a e. none_some a (sym none ∙ e);
    }
  where
    none : awaited_ids s (since_line (λ z. z.bsy) (row ∷ p)) (call (row ∷ p)) ≡ None
    none = ids_none s (call (row ∷ p)) (since_line (λ z. z.bsy) (row ∷ p)) unasked

    go : (xs : List Sample) (q : Bool) → (falls (bus p).bsy (bus (row ∷ p)).bsy && (bus (row ∷ p)).sel) ≡ q
        → (if q then samples_with_ids s (call (row ∷ p)) row.time xs else xs) ≡ xs
    go xs true e = ids_unsampled s (call (row ∷ p)) row.time xs (answered e)
    go xs false e = refl

-- BSY was false.
low_bsy : {A : Type 0} (a b c : Bool) → a ≡ false → (falls a b && c) ≡ true → A
low_bsy a b c e f = wrong' (ap (λ (q : Bool). falls q b && c) (sym e) ∙ f)

fell : (a b c : Bool) → (falls a b && c) ≡ true → (b ≡ false) × (c ≡ true)
fell true true c e = wrong' e
fell true false c e = (refl, e)
fell false b c e = wrong' e

-- The calling that stood goes on.
follows_from : (p : List Row) (row : Row) (c : Call) (g : Calling) (y : Call) (h : Calling) → call p ≡ Some c
    → c.calling ≡ Some g → call (row ∷ p) ≡ Some y → y.calling ≡ Some h → Follows g h
follows_from p row c g y h ej eg ek eh =
    let w = call_goes p row y h ek eh in
    let same : w.was ≡ c = same_Some w.was c (sym w.was_is ∙ ej) in
    calling_follows w.was.caller g h (change_of p row) row
    (sym (ap (λ (o : Option Calling). calling_after w.was.caller o (change_of p row) row)
    (ap (λ (x : Call). x.calling) same ∙ eg)) ∙ w.goes)

-- Where SEL was false no device is called.
pub fresh_none : (s : ScenarioValue) (p : List Row) (row : Row) → (bus p).sel ≡ false
    → awaited_ids s (since_line (λ z. z.bsy) (row ∷ p)) (call (row ∷ p)) ≡ None
fresh_none s p row off = ids_none s (call (row ∷ p)) (since_line (λ z. z.bsy) (row ∷ p))
    (λ k h ek eh. wrong (sym (call_goes p row k h ek eh).sel ∙ off))

pub ids_fresh : (s : ScenarioValue) (p : List Row) (row : Row) → (bus p).sel ≡ false → IdsOn s p row
ids_fresh s p row off = ids_on_by s p row (λ k h ek eh. wrong (sym (call_goes p row k h ek eh).sel ∙ off))
    (λ e k h ek eh. wrong (sym (call_goes p row k h ek eh).sel ∙ off))

ids_answered : (s : ScenarioValue) (p : List Row) (row : Row) (c : Call) (g : Calling) → call p ≡ Some c
    → c.calling ≡ Some g → is_some g.answered ≡ true → IdsOn s p row
ids_answered s p row c g ej eg some =
    let after : (x : Call) (h : Calling) → call (row ∷ p) ≡ Some x → x.calling ≡ Some h → is_some h.answered ≡ true =
    λ x h ek eh. (follows_from p row c g x h ej eg ek eh).answered some in
    ids_on_by s p row (λ x h ek eh. answered_unasked h (after x h ek eh)) (λ e. after)

-- ---- once a device has won

-- Where SEL is true and BSY false, the caller has released BSY.
released_stage : (s : ScenarioValue) (q : List Row) (y : Call) (h : Calling) → BusStage s q → (bus q).rst ≡ false
    → connection q ≡ None → (bus q).bsy ≡ false → call q ≡ Some y → y.calling ≡ Some h → is_some h.released ≡ true
released_stage s q y h (on_free_bus z) calm alone low ek eh = none_some y (sym z.stands.call_is ∙ ek)
released_stage s q y h (in_arbitration a z) calm alone low ek eh = none_some y (sym z.stands.call_is ∙ ek)
released_stage s q y h (after_arbitration c t z) calm alone low ek eh =
    none_some h (ap (λ (x : Call). x.calling) (same_Some _ y (sym z.stands.call_is ∙ ek)) ∙ eh)
released_stage s q y h (with_both_ids m c j t0 t e z) calm alone low ek eh =
    wrong (sym (ap (λ (l : LineSet). l.bsy) z.stands.bus_is) ∙ low)
released_stage s q y h (awaiting_answer v m c j t0 t1 t2 x z) calm alone low ek eh = ap
    (λ (g : Calling). is_some g.released)
    (sym (same_Some _ h (ap (λ (x : Call). x.calling) (same_Some _ y (sym z.here.stands.call_is ∙ ek)) ∙ eh)))
released_stage s q y h (after_withdrawal v m c j t0 t1 t2 t3 e z) calm alone low ek eh = ap
    (λ (g : Calling). is_some g.released)
    (sym (same_Some _ h (ap (λ (x : Call). x.calling) (same_Some _ y (sym z.stands.call_is ∙ ek)) ∙ eh)))
released_stage s q y h (after_answer m c j t0 t1 t2 t3 x z) calm alone low ek eh =
    wrong (sym (ap (λ (l : LineSet). l.bsy) z.here.stands.bus_is) ∙ low)
released_stage s q y h (after_takeover c j t0 t1 t2 t3 t4 x e f z) calm alone low ek eh =
    wrong (sym (ap (λ (l : LineSet). l.bsy) z.here.stands.bus_is) ∙ low)
released_stage s q y h (in_reset z) calm alone low ek eh = wrong (sym z.reset ∙ calm)
released_stage s q y h (in_connection n f g z) calm alone low ek eh = absurd (some_none n (sym f ∙ alone))
  where
    some_none : (n : Connection) → Some n ≡ None → ⊥
    some_none n z = absurd cc

new_unreleased : (q r : Bool) (a h : Calling) → is_some a.released ≡ false → (if q && r then Some a else None) ≡ Some h
    → is_some h.released ≡ false
new_unreleased true true a h e z = ap (λ (g : Calling). is_some g.released) (sym (same_Some a h z)) ∙ e
new_unreleased true false a h e z = none_some h z
new_unreleased false r a h e z = none_some h z

ids_won : (s : ScenarioValue) (p : List Row) (row : Row) (y : Call) → call p ≡ Some y → y.calling ≡ None
    → BusStage s (row ∷ p) → (bus (row ∷ p)).rst ≡ false → connection (row ∷ p) ≡ None → IdsOn s p row
ids_won s p row y ej none next calm alone =
    let new : (z : Call) (h : Calling) → call (row ∷ p) ≡ Some z → z.calling ≡ Some h → is_some h.released ≡ false =
    λ z h ek eh. let w = call_goes p row z h ek eh in let c : Change = change_of p row in new_unreleased
    (row.dev == w.was.caller) (drives_two_ids w.was.caller c.next) (new_calling w.was.caller c.next row.time) h refl
    (sym (ap (λ (o : Option Calling). calling_after w.was.caller o c row)
    (ap (λ (x : Call). x.calling) (same_Some w.was y (sym w.was_is ∙ ej)) ∙ none)) ∙ w.goes) in
    ids_on_by s p row (λ z h ek eh. unreleased_unasked h (new z h ek eh))
    (λ e z h ek eh. wrong (sym (released_stage s (row ∷ p) z h next calm alone
    (fell (bus p).bsy (bus (row ∷ p)).bsy (bus (row ∷ p)).sel e).0 ek eh) ∙ new z h ek eh))

-- ---- once both IDs stand

ids_asking : (s : ScenarioValue) (p : List Row) (m : Bool) (c w t0 t1 t : ℕ)
    → Calls s p (begun_call m c w t0 t1) c w (both_ids m c w) none (both_ids m c w)
    → IdsOn s p (row_of_lines t c (calling_lines m false (2 ^ c + 2 ^ w + 256)))
ids_asking s p m c w t0 t1 t h =
    let u : ℕ = 2 ^ c + 2 ^ w + 256 in
    let l : LineSet = calling_lines m false u in
    let row : Row = row_of_lines t c l in
    let q : List Row = row ∷ p in
    let own : drives q c ≡ l = drives_own p t c l in
    let quiet = only_caller s p _ c w _ _ h in
    let rest : (e : ℕ) → e < 8 → e ≢ c → drives q e ≡ none = λ e lt ne. drives_other p t c l e ne ∙ quiet e lt ne in
    let after : bus q ≡ l = bus_one q c h.caller_below rest ∙ own in
    let goes = stands_after p t c l l (both_ids m c w) l (both_ids m c w) None
    (Some (begun_call m c w t0 t1)) None h.stands refl after h.caller in
    let calling : call q ≡ Some (awaiting_call false m c w t0 t1 t) = goes.call_is
    ∙ (λ i. Some (record (begun_call m c w t0 t1) {
      calling = if eq_self c i then Some (record (new_calling_at m w t1) {
        released = Some t;
        withdrawn = when (not (ids_not_zero c w i) && ids_not_zero c w i) t None;
      }) else if c == w then Some (record (new_calling_at m w t1) { struck = false }) else Some (new_calling_at m w t1);
    })) in
    let age : since_line (λ y. y.bsy) q ≡ t = since_is (λ y. y.bsy) p row (both_ids m c w) l h.stands.bus_is after in
    record {
      puts = λ xs.
          (λ i. if falls (h.stands.bus_is i).bsy (after i).bsy && (after i).sel then samples_with_ids s (calling i) t xs
          else xs)
          ∙ ids_sampled s (latency_of s w) w t xs ∙ (λ i. with_awaited (awaited_ids s (sym age i) (sym calling i)) xs);
      now = λ a e. later (latency_of s w) w t a ((λ i. awaited_ids s (sym age i) (sym calling i)) ∙ e);
    }
  where
    later : (o : Option ℕ) (dev time : ℕ) (a : Sample) → ids_at o dev time ≡ Some a → time < a.time
    later None dev time a e = none_some a e
    later (Some lat) dev time a e = let z = ap (λ (x : Sample). x.time) (same_Some _ a e) in omega (arith, z)

ids_called : (s : ScenarioValue) (p : List Row) (m : Bool) (c l t0 t1 : ℕ) (row : Row) → CalmStanding s p
    → Calls s p (begun_call m c l t0 t1) c l (both_ids m c l) none (both_ids m c l) → IsLeast (unreset_due s p) 8 row
    → IdsOn s p row
ids_called s p m c l t0 t1 row always h least =
    let w = is_there s p row.dev (due_of row) least.is_due in
    let was : stage p ≡ InCalling (begun_call m c l t0 t1) = stage_is p _ _ _ _ h.stands in
    elim (cases_eq row.dev c) [
      | inl same ↦
          let z = is_at (own_time p c + 90 + w.0) (calling_lines m false (2 ^ c + 2 ^ l + 256))
          (due_of row) (sym (asks_due s p m c l t0 t1 w.0 (both_ids m c l) always.devices h.caller_below
          (ap (latency_of s) (sym same) ∙ w.1) h.stands.connection_is was h.caller)
          ∙ ap (unreset_due s p) (sym same) ∙ least.is_due) in
          let e : row ≡ row_of_lines row.time c (calling_lines m false (2 ^ c + 2 ^ l + 256)) =
          λ i. record { time = row.time; dev = same i; kind = z.kind_is i } in
          subst (λ (r : Row). IdsOn s p r) (sym e) (ids_asking s p m c l t0 t1 row.time h)
      | inr ne ↦ absurd (none_some (due_of row)
          (sym (before_due s p m c l t0 t1 row.dev w.0 always.devices least.inside w.1 h.stands.connection_is
          (λ z. ne (sym z)) was (only_caller s p _ c l _ _ h row.dev least.inside ne)) ∙ least.is_due))
    ]

-- ---- once BSY is false

ids_low : (s : ScenarioValue) (p : List Row) (row : Row) (c : Call) (g : Calling) → call p ≡ Some c → c.calling ≡ Some g
    → (bus p).bsy ≡ false → ((h : Calling) → Follows g h → is_asked h ≡ false) → IdsOn s p row
ids_low s p row c g ej eg low stuck = ids_on_by s p row (λ k h ek eh. stuck h (follows_from p row c g k h ej eg ek eh))
    (λ e k h ek eh. low_bsy (bus p).bsy (bus (row ∷ p)).bsy (bus (row ∷ p)).sel low e)

-- The called device answers, or a fault strikes it.
sampled_call : (caller m : ℕ) (g h : Calling) (c : Change) (row : Row) → caller ≢ m → g.called ≡ m → row.dev ≡ m
    → calling_after caller (Some g) c row ≡ Some h → called_goes_on g c row ≡ h
sampled_call caller m g h c row ne ek ed e =
    let no : (row.dev == caller) ≡ false = ne_eqb row.dev caller (λ z. ne (sym z ∙ ed)) in
    let yes : (row.dev == g.called) ≡ true = ap (λ (x : ℕ). x == g.called) (ed ∙ sym ek) ∙ eq_self g.called in
    same_Some _ h (sym
    (λ i. if no i then Some (caller_goes_on g c row.time) else if yes i then Some (called_goes_on g c row) else Some g)
    ∙ e)

ids_taken : (s : ScenarioValue) (p : List Row) (m : Bool) (c u t0 t1 t2 x lat : ℕ) (row : Row)
    → HasShortLatencies s → CalmStanding s p → AwaitsAnswer s p false m c u t0 t1 t2 x → latency_of s u ≡ Some lat
    → IsLeast (unreset_due s p) 8 row → IdsOn s p row
ids_taken s p m c u t0 t1 t2 b lat row fits always a there least = ids_on_by s p row unasked (λ e kk h ek eh. low_bsy
    (bus p).bsy (bus (row ∷ p)).bsy (bus (row ∷ p)).sel (ap (λ (l : LineSet). l.bsy) a.here.stands.bus_is) e)
  where
    g : Calling
    g = record (new_calling_at m u t1) { released = Some t2 }

    time : ℕ
    time = since_line (λ z. z.bsy) p + BUS_SETTLE_DELAY + lat

    was : stage p ≡ InCalling (awaiting_call false m c u t0 t1 t2)
    was = stage_is p _ _ _ _ a.here.stands

    due : unreset_due s p u ≡ fault_or (since_line (λ z. z.bsy) p + BUS_SETTLE_DELAY + lat) (flip_at s p lat)
        (due_at (since_line (λ z. z.bsy) p + BUS_SETTLE_DELAY + lat) answer_lines)
    due = answers_due s p m c u t0 t1 t2 lat always.devices a.here.called_below there a.here.stands.connection_is
        a.here.apart was a.here.other

    by_kind : (h : Calling) → called_goes_on g (change_of p row) row ≡ h → row.dev ≡ u
        → (o : Option ℕ) → fault_or time o (due_at time answer_lines) ≡ Some (due_of row) → is_asked h ≡ false
    by_kind h same here None e =
        let kind = (is_at time answer_lines (due_of row) e).kind_is in
        let own : drives p row.dev ≡ none = ap (drives p) here ∙ a.here.other in
        let up : rises (change_of p row).own.bsy (change_of p row).next.bsy ≡ true = λ i. rises
        (own i).bsy (driven_after (kind i) (drives p row.dev)).bsy in
        answered_unasked h
        (ap (λ (z : Calling). is_some z.answered) (sym same) ∙ ap (λ (q : Bool). is_some (when q row.time None)) up)
    by_kind h same here (Some bit) e =
        let kind = (fault_at time bit (due_at time answer_lines) (due_of row) (Some bit) refl e).1 in
        struck_unasked h (ap (λ (z : Calling). z.struck) (sym same) ∙ ap is_fault kind)

    by_device : (kk : Call) (h : Calling) → GoesOn p row kk h → is_asked h ≡ false
    by_device kk h w =
        let same : awaiting_call false m c u t0 t1 t2 ≡ w.was = same_Some _ w.was
        (sym a.here.stands.call_is ∙ w.was_is) in
        let goes : calling_after c (Some g) (change_of p row) row ≡ Some h =
        (λ i. calling_after (same i).caller (same i).calling (change_of p row) row) ∙ w.goes in
        elim (cases_eq row.dev u) [
          | inl here ↦ by_kind h (sampled_call c u g h (change_of p row) row a.here.apart refl here goes) here
              (flip_at s p lat) (sym due ∙ ap (unreset_due s p) (sym here) ∙ least.is_due)
          | inr nk ↦ absurd (nk (dev_is nk))
        ]
      where
        dev_is : row.dev ≢ u → row.dev ≡ u
        dev_is nk =
            let v = is_there s p row.dev (due_of row) least.is_due in
            elim (cases_eq row.dev c) [
              | inl same ↦
                  let z = is_at (t2 + 250000000 + v.0)
                  (record (calling_lines m false b) { data_bits = 0 }) (due_of row) (sym
                  (waits_due s p false m c u t0 t1 t2 v.0 (calling_lines m false b) always.devices a.here.caller_below
                  (ap (latency_of s) (sym same) ∙ v.1) a.here.stands.connection_is was a.here.caller)
                  ∙ ap (unreset_due s p) (sym same) ∙ least.is_due) in
                  let y = answer_exists time (flip_at s p lat) answer_lines in
                  let first = least.first u a.here.called_below y.0 (due ∙ y.1.0) in
                  let at = z.time_is in
                  let yt = y.1.1 in
                  let short = fits.latency u lat there in
                  let age = a.bsy_age in
                  absurd (omega (arith, first, at, yt, short, age))
              | inr nc ↦ absurd (none_some (due_of row) (sym (aside_due s p false m c u t0 t1 t2 row.dev v.0
                  always.devices least.inside v.1 a.here.stands.connection_is (λ z. nc (sym z)) (λ z. nk (sym z)) was
                  (a.here.rest row.dev least.inside nc nk)) ∙ least.is_due))
            ]

    unasked : (kk : Call) (h : Calling) → call (row ∷ p) ≡ Some kk → kk.calling ≡ Some h → is_asked h ≡ false
    unasked kk h ek eh = by_device kk h (call_goes p row kk h ek eh)

-- One that is not there samples nothing.
ids_absent : (s : ScenarioValue) (p : List Row) (row : Row) (c : Call) (g : Calling) → call p ≡ Some c
    → c.calling ≡ Some g → (bus p).bsy ≡ false → latency_of s g.called ≡ None → IdsOn s p row
ids_absent s p row c g ej eg low there =
    record {
      puts = λ xs. go xs (falls (bus p).bsy (bus (row ∷ p)).bsy && (bus (row ∷ p)).sel) refl
          ∙ ap (λ (o : Option Sample). with_awaited o xs) (sym (none (call (row ∷ p)) refl));
      now = λ a e. none_some a (sym (none (call (row ∷ p)) refl) ∙ e);
    }
  where
    go : (xs : List Sample) (q : Bool) → (falls (bus p).bsy (bus (row ∷ p)).bsy && (bus (row ∷ p)).sel) ≡ q
        → (if q then samples_with_ids s (call (row ∷ p)) row.time xs else xs) ≡ xs
    go xs true e = low_bsy (bus p).bsy (bus (row ∷ p)).bsy (bus (row ∷ p)).sel low e
    go xs false e = refl

    either : (q : Bool) (o : Option Sample) → o ≡ None → (if q then o else None) ≡ None
    either true o e = e
    either false o e = refl

    by_calling : (x : Call) → call (row ∷ p) ≡ Some x → (o : Option Calling) → x.calling ≡ o
        → ids_of s (since_line (λ z. z.bsy) (row ∷ p)) o ≡ None
    by_calling x ek None eh = refl
    by_calling x ek (Some h) eh =
        let f = follows_from p row c g x h ej eg ek eh in
        either (is_asked h) (ids_at (latency_of s h.called) h.called (since_line (λ z. z.bsy) (row ∷ p))) (ap
        (λ (o : Option ℕ). ids_at o h.called (since_line (λ z. z.bsy) (row ∷ p))) (ap (latency_of s) f.called ∙ there))

    none : (o : Option Call) → call (row ∷ p) ≡ o
        → awaited_ids s (since_line (λ z. z.bsy) (row ∷ p)) (call (row ∷ p)) ≡ None
    none None e = ap (awaited_ids s (since_line (λ z. z.bsy) (row ∷ p))) e
    none (Some x) e = ap (awaited_ids s (since_line (λ z. z.bsy) (row ∷ p))) e ∙ by_calling x e x.calling refl

-- ---- any row

pub ids_on : (s : ScenarioValue) (p : List Row) (row : Row) → HasShortLatencies s → CalmStanding s p
    → BusStage s p → connection p ≡ None → (bus p).rst ≡ false → BusStage s (row ∷ p) → (bus (row ∷ p)).rst ≡ false
    → connection (row ∷ p) ≡ None → IsLeast (unreset_due s p) 8 row → IdsOn s p row
ids_on s p row fits always (on_free_bus h) alone calm next off after least =
    ids_fresh s p row (ap (λ (l : LineSet). l.sel) h.stands.bus_is)
ids_on s p row fits always (in_arbitration b h) alone calm next off after least =
    ids_fresh s p row (ap (λ (l : LineSet). l.sel) h.stands.bus_is)
ids_on s p row fits always (after_arbitration c t h) alone calm next off after least =
    ids_won s p row _ h.stands.call_is refl next off after
ids_on s p row fits always (with_both_ids m c k t0 t z h) alone calm next off after least =
    ids_called s p m c k t0 t row always h least
ids_on s p row fits always (awaiting_answer true m c k t0 t1 t2 x h) alone calm next off after least = ids_low
    s p row _ _ h.here.stands.call_is refl (ap (λ (l : LineSet). l.bsy) h.here.stands.bus_is)
    (λ g f. struck_unasked g (f.struck refl))
ids_on s p row fits always (awaiting_answer false m c k t0 t1 t2 x h) alone calm next off after least = by_option
    (latency_of s k) (λ there. ids_absent s p row _ _ h.here.stands.call_is refl
    (ap (λ (l : LineSet). l.bsy) h.here.stands.bus_is) there)
    (λ lat there. ids_taken s p m c k t0 t1 t2 x lat row fits always h there least)
ids_on s p row fits always (after_withdrawal v m c k t0 t1 t2 t3 z h) alone calm next off after least = ids_low
    s p row _ _ h.stands.call_is refl (ap (λ (l : LineSet). l.bsy) h.stands.bus_is)
    (λ g f. withdrawn_unasked g (f.withdrawn refl))
ids_on s p row fits always (after_answer m c k t0 t1 t2 t3 x h) alone calm next off after least =
    ids_answered s p row _ _ h.here.stands.call_is refl refl
ids_on s p row fits always (after_takeover c k t0 t1 t2 t3 t4 x z f h) alone calm next off after least =
    ids_answered s p row _ _ h.here.stands.call_is refl refl
ids_on s p row fits always (in_reset h) alone calm next off after least = wrong (sym h.reset ∙ calm)
ids_on s p row fits always (in_connection n f g h) alone calm next off after least =
    absurd (some_none n (sym f ∙ alone))
  where
    some_none : (n : Connection) → Some n ≡ None → ⊥
    some_none n z = absurd cc
