-- A command whose connection ends, and which is open after it, was disconnected: it was not lost, and did not end
-- (6.6.5, 6.6.6).
use Rattle.progress_laws.proofs
use proofs.Names.{inl, inr, ℕ, ◌≡◌, ◌⊎◌, Bool, true, false, ◌∙◌, List, [], ◌∷◌, Some, None, refl, sym, ap, subst, Event}
use proofs.Names.{Row, Connection, MsgIn, ScenarioValue, Process, row_reading, bus_free_events, item_loss_events}
use proofs.Names.{row_events_by, command_item, is_open, command_id, Link, plain, Story, story_after_events}
use proofs.Names.{story_by_change, one_message, phase_of, Phase, RunState, bus_of, process_served, run_state_after}
use proofs.Names.{Closes, HasPlaces, IsTaken, PlacedBefore, PlacedIf, PlacedIn, completes, disconnects, is_queued}
use proofs.{Names.{lost_over, IsEndAsked, free_shown}, Queues.{Over.{EndedOver}, Rows.{open_over}}}

-- What is lost is over.
lost_closed : {A : Type 0} (s : ScenarioValue) (k : RunState) (row : Row) (l : Link) (m : ℕ) → k.story.link ≡ Some l
    → (row_reading k.story.bus_state row).change.after.rst ≡ false → (row_reading k.story.bus_state row).next ≡ None
    → l.last ≡ plain → l.item ≡ Some (command_item m) → is_open (run_state_after s k row).story.sent m ≡ true → A
lost_closed s k row l m link calm none last item e = open_over
    (story_after_events s b (Event.Lost (command_id m) ∷ [])).sent m
    (ap (λ (x : List Event). is_open (story_after_events s b x).sent m) (sym shown) ∙ e) (lost_over s b (command_id m))
  where
    b : Story
    b = story_by_change s k.story (row_reading k.story.bus_state row) row

    shown : row_events_by s k.story (row_reading k.story.bus_state row) row ≡ Event.Lost (command_id m) ∷ []
    shown = free_shown s k row l link calm none ∙ (λ i. bus_free_events s l (last i)) ∙ (λ i. item_loss_events (item i))

pub left_calm : (s : ScenarioValue) (k : RunState) (row : Row) (m : Connection) (l : Link) (i : ℕ) (c : Process)
    → (h : HasPlaces s k) → k.story.bus_state.connection ≡ Some m → (bus_of k).rst ≡ false → k.exchange.begun ≡ true
    → k.served ≡ Some (command_item i) → process_served s k ≡ Some c → c.id ≡ command_id i → k.story.link ≡ Some l
    → (row_reading k.story.bus_state row).change.after.rst ≡ false → (row_reading k.story.bus_state row).next ≡ None
    → IsEndAsked k l h.array → EndedOver k h.array → is_open k.story.sent i ≡ true
    → is_open (run_state_after s k row).story.sent i ≡ true → is_queued h.array.units (command_id i) ≡ true
left_calm s k row m l i c h con off begun served is own link calm none asked over was e = go (phase_of (bus_of k)) refl
  where
    placed : PlacedIn h.array c k.exchange.plan k.handshakes (bus_of k).atn (phase_of (bus_of k))
    placed = subst (λ (q : Bool). PlacedIf q h.array c k.exchange.plan k.handshakes (bus_of k).atn
        (phase_of (bus_of k))) begun (h.placed m con off c is)

    Left : Type 0
    Left = is_queued h.array.units (command_id i) ≡ true

    lost : (phase_of (bus_of k) ≡ Phase.MessageIn → ⊥) → Left
    lost f = lost_closed s k row l i link calm none (asked.lost (command_id i) served f)
        (asked.named (command_id i) served) e

    taken : phase_of (bus_of k) ≡ Phase.MessageIn → k.exchange.plan.messages ≡ one_message MsgIn.CommandComplete → Left
    taken here says = open_over k.story.sent i was (over (command_id i) (asked.taken (command_id i) served here says))

    closes : phase_of (bus_of k) ≡ Phase.MessageIn → Closes h.array c k.exchange.plan.messages → Left
    closes here (completes says answered) = taken here says
    closes here (disconnects tells rests opens queued) = ap (is_queued h.array.units) (sym own) ∙ queued

    by : phase_of (bus_of k) ≡ Phase.MessageIn → (PlacedBefore h.array c k.exchange.plan.messages k.exchange.plan.next)
        ⊎ (IsTaken h.array c k.exchange.plan k.handshakes (bus_of k).atn)
        → Left
    by here (inl z) = closes here
        (subst (λ x. PlacedBefore h.array c k.exchange.plan.messages x) (asked.next (command_id i) served here) z)
    by here (inr z) = taken here z.messages_are

    go : (x : Phase) → phase_of (bus_of k) ≡ x → Left
    go Phase.MessageIn z =
        by z (subst (λ (x : Phase). PlacedIn h.array c k.exchange.plan k.handshakes (bus_of k).atn x) z placed)
    go Phase.MessageOut z = lost (λ y. no_out (sym z ∙ y))
      where
        no_out : Phase.MessageOut ≡ Phase.MessageIn → ⊥
        no_out w = absurd cc
    go Phase.Command z = lost (λ y. no_command (sym z ∙ y))
      where
        no_command : Phase.Command ≡ Phase.MessageIn → ⊥
        no_command w = absurd cc
    go Phase.Status z = lost (λ y. no_status (sym z ∙ y))
      where
        no_status : Phase.Status ≡ Phase.MessageIn → ⊥
        no_status w = absurd cc
    go Phase.DataIn z = lost (λ y. no_in (sym z ∙ y))
      where
        no_in : Phase.DataIn ≡ Phase.MessageIn → ⊥
        no_in w = absurd cc
    go Phase.DataOut z = lost (λ y. no_out (sym z ∙ y))
      where
        no_out : Phase.DataOut ≡ Phase.MessageIn → ⊥
        no_out w = absurd cc
