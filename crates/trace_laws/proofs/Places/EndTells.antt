-- As a connection ends the initiator knows its process, and in MESSAGE IN the last message tells that it ends (6.6.5,
-- 6.6.6, 6.6.13).
use Rattle.trace_laws.proofs
use proofs.Names.{inl, inr, ◌≡◌, ◌⊎◌, ◌<◌, Bool, true, false, ◌∙◌, List, ◌∷◌, Option, Some, None, refl, sym, ap, subst}
use proofs.Names.{is_some, if◌then◌else◌, wrong, ProcId, LineSet, connection, bus, Row, Change, Connection}
use proofs.Names.{ScenarioValue, Obeys, RowReading, row_reading, process, Link, complete, disconnect, policy_of}
use proofs.Names.{Serving, phase_of, phase_entry, with_task, next_data_phase, phase_leaving, message_out_leaving}
use proofs.Names.{after_messages, leaving_by, Cause, Leaving, Next, Phase, Task, IsPrompt, RunState, bus_of, item_of}
use proofs.Names.{process_item, run_state, serving_of, leaving, task_of, reading_is, Knows, Ends, change_plain}
use proofs.Names.{least_is, some_none, connection_row, RowFacts, stays, ends_here, Stood, PlaceFacts, Tells, LastIn}
use proofs.{Names.{TellsAsLeft, naming_goes_on}, Places.TurnRows.{no_task}}

pub record EndTold (k : RunState) (l : Link) : Type 0 where
  pub named : (id : ProcId) → k.served ≡ Some (process id) → l.item ≡ Some (process id)
  pub next : (id : ProcId) → k.served ≡ Some (process id) → phase_of (bus_of k) ≡ Phase.MessageIn
      → k.exchange.plan.next ≡ Next.FreeBus
  pub closing : (id : ProcId) → k.served ≡ Some (process id) → phase_of (bus_of k) ≡ Phase.MessageIn
      → (l.last ≡ complete) ⊎ (l.last ≡ disconnect)

-- MESSAGE IN is left for no phase where ATN is false and the bus is to be freed.
frees_by : (v : Serving) (next : Next) → (v.task ≡ None → ⊥) → (after_messages v next).to ≡ None → next ≡ Next.FreeBus
frees_by v Next.Command f e = some_none Phase.Command e
frees_by v Next.Status f e = some_none Phase.Status e
frees_by v Next.FreeBus f e = refl
frees_by v Next.GoOn f e = go v.task refl e
  where
    go : (o : Option Task) → v.task ≡ o
        → (with_task o (λ t. phase_entry (next_data_phase (policy_of v.def) t t.runs))).to ≡ None
        → Next.GoOn ≡ Next.FreeBus
    go None z w = absurd (f z)
    go (Some t) z w = some_none (next_data_phase (policy_of v.def) t t.runs) w

unattended : (q : Bool) (l : Leaving) → (if q then phase_entry Phase.MessageOut else l).to ≡ None
    → (q ≡ false) × (l.to ≡ None)
unattended true l e = some_none Phase.MessageOut e
unattended false l e = (refl, e)

pub end_told : (s : ScenarioValue) (p : List Row) (row : Row) (n : Connection) (l : Link) → Obeys s
    → IsPrompt s (row ∷ p) → Stood s p → PlaceFacts s p → TellsAsLeft s p row → Ends s (run_state s p) row n
    → (row_reading (run_state s p).story.bus_state row).change.after.rst ≡ false → (run_state s p).story.link ≡ Some l
    → EndTold (run_state s p) l
end_told s p row n l o prompt was h left g calm link = record {
  named = named;
  next = λ id e f. frees_by v k.exchange.plan.next (no_tasks id e) (in_leaves f).1;
  closing = closing;
}
  where
    k : RunState
    k = run_state s p

    v : Serving
    v = serving_of s k n.target

    lt : row.dev < 8
    lt = (least_is s p row prompt.1).inside

    con : connection p ≡ Some n
    con = sym was.plain.connection ∙ g.connection_is

    off : (bus p).rst ≡ false
    off = sym (ap (λ (x : LineSet). x.rst) was.plain.bus) ∙ g.calm

    off_after : (bus (row ∷ p)).rst ≡ false
    off_after = sym (ap (λ (x : Change). x.after.rst) (change_plain s row p was.standing.devices lt)) ∙ calm

    freed : RowFacts s p row n → (k.exchange.begun ≡ true) × ((leaving s k n.target).to ≡ None)
    freed (ends_here f) = (was.plain.begun ∙ f.begun_is, f.whereto)
    freed (stays f) =
        let some : (row_reading k.story.bus_state row).next ≡ Some n = ap
        (λ (x : RowReading). x.next) (reading_is k row n f.change _ f.row_is refl) in
        some_none n (sym some ∙ g.next_is)

    ends : (k.exchange.begun ≡ true) × ((leaving s k n.target).to ≡ None)
    ends = freed (connection_row s p row n o prompt was con off off_after).facts

    tells : Tells s k n
    tells = left n (record { stands = con; calm = off; calm_after = off_after; begun = ends.0; leaves = inr g.next_is })

    to : (x : Phase) → phase_of (bus_of k) ≡ x → (phase_leaving v (bus_of k).atn x).to ≡ None
    to x e = ap (λ (y : Phase). (phase_leaving v (bus_of k).atn y).to) (sym e)
        ∙ ap (λ (q : Bool). (leaving_by v q (bus_of k)).to) (sym ends.0) ∙ ends.1

    in_leaves : phase_of (bus_of k) ≡ Phase.MessageIn
        → ((bus_of k).atn ≡ false) × ((after_messages v k.exchange.plan.next).to ≡ None)
    in_leaves e = unattended (bus_of k).atn (after_messages v k.exchange.plan.next) (to Phase.MessageIn e)

    no_tasks : (id : ProcId) → k.served ≡ Some (process id) → task_of s k ≡ None → ⊥
    no_tasks id e = let own = h.of_scenario id e in no_task s k own.0 (ap (process_item s) e ∙ own.1)

    knows : Knows s k n
    knows = was.books.knows n g.connection_is g.calm

    same_link : (id : ProcId) → item_of k.story.link ≡ Some (process id) → l.item ≡ Some (process id)
    same_link id e = sym (ap item_of link) ∙ e

    named : (id : ProcId) → k.served ≡ Some (process id) → l.item ≡ Some (process id)
    named id e = by knows.item_is
      where
        by : (knows.link.item ≡ k.served) ⊎ ((n.reselected ≡ true) × (knows.link.item ≡ None))
            → l.item ≡ Some (process id)
        by (inl z) = same_link id (ap item_of knows.link_is ∙ z ∙ e)
        by (inr z) = elim (tells.naming (ap item_of knows.link_is ∙ z.1)) [
          | inl x ↦ wrong (sym (naming_goes_on v x.2) ∙ ap (λ (y : Option Phase). is_some y)
              (ap (λ (y : Cause). (message_out_leaving v y).to) (sym x.1) ∙ to Phase.MessageOut x.0))
          | inr x ↦ wrong (sym x.1 ∙ (in_leaves x.0).0)
        ]

    closing : (id : ProcId) → k.served ≡ Some (process id) → phase_of (bus_of k) ≡ Phase.MessageIn
        → (l.last ≡ complete) ⊎ (l.last ≡ disconnect)
    closing id e f =
        let last : LastIn k.exchange.plan (bus_of k).atn l.last Phase.MessageIn = subst
        (λ (x : Phase). LastIn k.exchange.plan (bus_of k).atn l.last x) f (tells.last l link) in
        last (in_leaves f).0 (frees_by v k.exchange.plan.next (no_tasks id e) (in_leaves f).1)

-- A phase has begun then.
pub end_begun : (s : ScenarioValue) (p : List Row) (row : Row) (n : Connection)
    → Obeys s → IsPrompt s (row ∷ p) → Stood s p → Ends s (run_state s p) row n
    → (row_reading (run_state s p).story.bus_state row).change.after.rst ≡ false → (run_state s p).exchange.begun ≡ true
end_begun s p row n o prompt was g calm = freed (connection_row s p row n o prompt was
    (sym was.plain.connection ∙ g.connection_is) (sym (ap (λ (x : LineSet). x.rst) was.plain.bus) ∙ g.calm) (sym
    (ap (λ (x : Change). x.after.rst) (change_plain s row p was.standing.devices (least_is s p row prompt.1).inside))
    ∙ calm)).facts
  where
    k : RunState
    k = run_state s p

    freed : RowFacts s p row n → k.exchange.begun ≡ true
    freed (ends_here f) = was.plain.begun ∙ f.begun_is
    freed (stays f) =
        let some : (row_reading k.story.bus_state row).next ≡ Some n = ap
        (λ (x : RowReading). x.next) (reading_is k row n f.change _ f.row_is refl) in
        some_none n (sym some ∙ g.next_is)
