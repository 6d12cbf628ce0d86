-- What stands of a connection after a row with no event that adds no part: one of MESSAGE OUT, of COMMAND or of data,
-- or a fault.
use Rattle.transcript_laws.proofs
use proofs.Names.{ℕ, ◌≡◌, ◌∙◌, Bool, false, not, ◌||◌, List, Option, Some, sym, ap, subst, Event, ProcId, is_command}
use proofs.Names.{Connection, ScenarioValue, same_id, CarriedBytes, carried_of, is_status_phase, Item, process, Link}
use proofs.Names.{Story, OpenedValue, TranscriberValue, are_talk, base_parts, is_known, IsBlank, IsServing, no_process}
use proofs.{Names.{AreAlike, Stage, of_abort, of_none, of_process}, Standing.{Linked.{Keeps}, Open.{alike_on, kept_on}}}
use proofs.Standing.Open.{from_on}

pub known_on : (t t' : TranscriberValue) (b b' : Story) (o k' : OpenedValue) (l l' : Link) → Keeps t t' b b' o k' l l'
    → base_parts k' ≡ base_parts o → is_known k' b'.bus_state.bus ≡ is_known o b.bus_state.bus
known_on t t' b b' o k' l l' e base = λ i. not (e.connection i).reselected || not (are_talk (base i)) || e.command i

pub stage_on : (s : ScenarioValue) (t t' : TranscriberValue) (b b' : Story) (o k' : OpenedValue) (l l' : Link)
    (sent : List Item) (conn : List Event) → Keeps t t' b b' o k' l l' → base_parts k' ≡ base_parts o
    → ((x : ProcId) → AreAlike (carried_of b.carried x) (carried_of b'.carried x))
    → ((x : ProcId) → is_command b.bus_state.bus ≡ false → is_status_phase b.bus_state.bus ≡ false
    → IsBlank (carried_of b.carried x) → IsBlank (carried_of b'.carried x))
    → ((id : ProcId) (back : CarriedBytes) (was : Bool) (st : Option ℕ) → l.item ≡ Some (process id)
    → IsServing o (is_command b.bus_state.bus) id (carried_of b.carried id) back conn b.history was st
    → IsServing k' (is_command b.bus_state.bus) id (carried_of b'.carried id) back conn b'.history was st)
    → Stage s t b o l sent conn → Stage s t' b' k' l' sent conn
stage_on s t t' b b' o k' l l' sent conn e base alike blank serves (of_abort j began is undo none talk kept) = of_abort
    j (ap (λ (n : Connection). n.reselected) e.connection ∙ began) (e.item ∙ is) (e.undo ∙ undo) none
    (ap are_talk base ∙ talk) (kept_on s t t' b b' sent no_process e.same (λ x no. alike x) kept)
stage_on s t t' b b' o k' l l' sent conn e base alike blank serves
    (of_none re none talk no_command no_status plain blanks undone kept) = of_none
    (ap (λ (n : Connection). n.reselected) e.connection ∙ re) none (ap are_talk base ∙ talk)
    (e.command ∙ no_command) (e.status ∙ no_status) (λ j i. plain j (sym e.item ∙ i))
    (λ id i. blank id no_command no_status (blanks id (sym e.item ∙ i))) (λ u i. let g = undone u (sym e.undo ∙ i) in (
      g.0,
      alike_on u (carried_of b.carried u.id) (carried_of b'.carried u.id) g.1 (alike u.id),
      λ id j. g.2 id (sym e.item ∙ j),
    )) (kept_on s t t' b b' sent no_process e.same (λ x no. alike x) kept)
stage_on s t t' b b' o k' l l' sent conn e base alike blank serves
    (of_process id back was st is undone own known serving events talks from kept) = of_process id back was st
    (e.item ∙ is) (λ u i. undone u (sym e.undo ∙ i)) own (known_on t t' b b' o k' l l' e base ∙ known)
    (subst (λ (q : Bool). IsServing k' q id (carried_of b'.carried id) back conn b'.history was st)
    (sym e.command) (serves id back was st is serving)) events (λ talk. talks (sym (ap are_talk base) ∙ talk))
    (from_on s t t' b b' o k' sent id was st e.same e.connection from)
    (kept_on s t t' b b' sent (λ x. same_id x id) e.same (λ x no. alike x) kept)
