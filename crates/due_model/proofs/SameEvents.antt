-- An ID is the same as itself; two kinds of abort, and two lists of events, that a test finds the same are one.
use Rattle.std.proofs.Common.{ℕ, ◌≡◌, true, List, [], ◌∷◌, refl, ap}
use Rattle.std.specs.Prelude.{◌==◌, ◌&&◌}
use Rattle.std.proofs.lemmas.Bool.{and_parts, eqb-true}
use Rattle.bus_rules.specs.bus_base.specs.declared.ProcId.{ProcId}
use Rattle.bus_rules.specs.bus_base.specs.declared.AbortKind.{AbortKind}
use Rattle.bus_rules.specs.bus_base.specs.declared.AbortKind.TheVariants as aborts
use Rattle.bus_rules.specs.bus_base.specs.declared.Event.{Event}
use Rattle.bus_rules.specs.bus_base.specs.declared.Event.TheVariants as events
use Rattle.dialogue_model.specs.array_model.specs.Processes.{same_id}
use Rattle.dialogue_model.specs.array_model.proofs.SeatLookups.{same_id_is}
use Rattle.due_model.specs.Telling.{same_kind, same_event, same_events}

pub kinds_are : (a b : AbortKind) → same_kind a b ≡ true → a ≡ b
kinds_are aborts.All aborts.All e = refl
kinds_are (aborts.Tag m) (aborts.Tag n) e = ap (λ (k : ℕ). aborts.Tag k) (eqb-true m n e)
kinds_are aborts.WholeQueue aborts.WholeQueue e = refl
kinds_are aborts.Device aborts.Device e = refl
kinds_are _ _ e = absurd cc

coded_are : (a b : ProcId) (m n : ℕ) (make : ProcId → ℕ → Event) → (same_id a b && m == n) ≡ true → make a m ≡ make b n
coded_are a b m n make e =
    let parts = and_parts (same_id a b) (m == n) e in
    λ i. make (same_id_is a b parts.0 i) (eqb-true m n parts.1 i)

aborts_are : (h i t v u w : ℕ) (x y : AbortKind) → (h == i && t == v && u == w && same_kind x y) ≡ true
    → events.Aborted h t u x ≡ events.Aborted i v w y
aborts_are h i t v u w x y e =
    let all = and_parts (h == i && t == v && u == w) (same_kind x y) e in
    let three = and_parts (h == i && t == v) (u == w) all.0 in
    let two = and_parts (h == i) (t == v) three.0 in
    λ j. events.Aborted (eqb-true h i two.0 j) (eqb-true t v two.1 j) (eqb-true u w three.1 j) (kinds_are x y all.1 j)

pub event_is : (a b : Event) → same_event a b ≡ true → a ≡ b
event_is (events.Accept a) (events.Accept b) e = ap (λ (p : ProcId). events.Accept p) (same_id_is a b e)
event_is (events.Refuse a) (events.Refuse b) e = ap (λ (p : ProcId). events.Refuse p) (same_id_is a b e)
event_is (events.Run a) (events.Run b) e = ap (λ (p : ProcId). events.Run p) (same_id_is a b e)
event_is (events.Fail a x) (events.Fail b y) e = coded_are a b x y (λ p n. events.Fail p n) e
event_is (events.End a x) (events.End b y) e = coded_are a b x y (λ p n. events.End p n) e
event_is (events.Lost a) (events.Lost b) e = ap (λ (p : ProcId). events.Lost p) (same_id_is a b e)
event_is (events.Aborted h t u x) (events.Aborted i v w y) e = aborts_are h i t v u w x y e
event_is (events.Reset a) (events.Reset b) e = ap (λ (n : ℕ). events.Reset n) (eqb-true a b e)
event_is _ _ e = absurd cc

pub events_are : (a b : List Event) → same_events a b ≡ true → a ≡ b
events_are [] [] e = refl
events_are [] (x ∷ b) e = absurd cc
events_are (x ∷ a) [] e = absurd cc
events_are (x ∷ a) (y ∷ b) e =
    let parts = and_parts (same_event x y) (same_events a b) e in
    λ i. event_is x y parts.0 i ∷ events_are a b parts.1 i
