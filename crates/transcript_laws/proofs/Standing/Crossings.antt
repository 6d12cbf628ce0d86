-- A row in which a byte crosses: what it makes of the transcript and of the story.
use Rattle.transcript_laws.proofs
use proofs.Names.{◌≡◌, ◌∙◌, Bool, true, false, List, [], ◌∷◌, ◌++◌, Some, None, refl, ap, ◌%◌, is_some, if◌then◌else◌}
use proofs.Names.{is_message_in, is_message_out, changes_phase, Kind, Row, got_out, got_in, MsgIn, MsgOut, fresh_bytes}
use proofs.Names.{ScenarioValue, BusState, RowReading, row_reading, message_out, message_in, whole_out, whole_in}
use proofs.Names.{carried_if, end_events, phase_events, connection_events, Link, Story, story_with_carried}
use proofs.Names.{carried_after_byte_if, story_after_byte, story_after_in, story_after_out, story_after_crossing}
use proofs.Names.{story_after_fault, story_in_connection, story, crossed_else, OpenedValue, with_crossing}
use proofs.Names.{with_still_row, phase_over, phase_entered, with_row, transcribed, StandsLinked}
use proofs.Standing.Linked.{IsOn, change_on, story_quiet, story_on, Makes}
use Rattle.due_model.specs.story_model.specs.HistoryEvents.{is_completion}

crossing_row : (o : OpenedValue) (w : BusState) (d : RowReading) (kind : Kind) → d.crosses ≡ true
    → with_row o w d kind ≡ with_crossing o w.dialogue.is_last d
crossing_row o w d kind e =
    λ i. if e i then with_crossing o w.dialogue.is_last d
    else if changes_phase d.change then phase_entered (phase_over o d.change.before w.dialogue.half true) d.change.after
    else with_still_row o w d.change kind

crossing_story : (s : ScenarioValue) (b : Story) (l : Link) (d : RowReading) (row : Row) → d.crosses ≡ true
    → story_in_connection s b (Some l) d row ≡ story_after_crossing s b l d
crossing_story s b l d row e = λ i. if e i then story_after_crossing s b l d else story_after_fault b l row.kind

pub no_events : (s : ScenarioValue) (b : Story) (l : Link) (d : RowReading) → changes_phase d.change ≡ false
    → is_completion l d.change ≡ false → connection_events s b l d ≡ []
no_events s b l d e f = (λ i. if e i then phase_events s b (carried_if b l.item) d.change
    else if is_completion l d.change then end_events (carried_if b l.item) else [])
    ∙ (λ i. if f i then end_events (carried_if b l.item) else [])

pub record Crosses (s : ScenarioValue) (rows : List Row) (row : Row) (l : Link) : Type 0 where
  pub crosses : (row_reading (story s rows).bus_state row).crosses ≡ true
  pub stays : changes_phase (row_reading (story s rows).bus_state row).change ≡ false
  pub incomplete : is_completion l (row_reading (story s rows).bus_state row).change ≡ false

pub crossing_makes : (s : ScenarioValue) (rows : List Row) (row : Row)
    (h : StandsLinked s (transcribed rows) (story s rows)) (o : OpenedValue) (c : Story)
    → IsOn s rows row h.opened.connection → Crosses s rows row h.link
    → with_crossing h.opened (story s rows).bus_state.dialogue.is_last (row_reading (story s rows).bus_state row) ≡ o
    → story_after_crossing s (story s rows) h.link (row_reading (story s rows).bus_state row) ≡ c
    → Makes s rows row o c []
crossing_makes s rows row h o c on g e f = record {
  transcript_is = change_on s rows row h on ∙ ap (λ (x : OpenedValue). record (transcribed rows) {
    opened = Some x;
  }) (crossing_row h.opened (story s rows).bus_state (row_reading (story s rows).bus_state row) row.kind g.crosses ∙ e);
  story_is = story_quiet s rows row h on
      (no_events s (story s rows) h.link (row_reading (story s rows).bus_state row) g.stays g.incomplete)
      ∙ ap (λ (x : Story). story_on s rows row x [])
      (crossing_story s (story s rows) h.link (row_reading (story s rows).bus_state row) row g.crosses ∙ f);
}

-- ---- which messages come

pub no_out : (w : BusState) (row : Row) → is_message_out w.bus ≡ false → (row_reading w row).out ≡ None
no_out w row e = go (row_reading w row).crosses
  where
    go : (q : Bool) → message_out w.dialogue (row_reading w row).change q ≡ None
    go true = ap (λ (r : Bool).
        if r then whole_out (got_out (fresh_bytes w.dialogue ++ (row_reading w row).change.after.data_bits % 256 ∷ []))
        else None) e
    go false = refl

pub no_into : (w : BusState) (row : Row) → is_message_in w.bus ≡ false → (row_reading w row).into ≡ None
no_into w row e = go (row_reading w row).crosses
  where
    go : (q : Bool) → message_in w.dialogue (row_reading w row).change q ≡ None
    go true = ap (λ (r : Bool). if r
        then whole_in (got_in (w.dialogue.half ++ (row_reading w row).change.after.data_bits % 256 ∷ [])) else None) e
    go false = refl

-- ---- the story

pub out_story : (s : ScenarioValue) (b : Story) (l : Link) (d : RowReading) (m : MsgOut) → d.out ≡ Some m
    → story_after_crossing s b l d ≡ story_after_out b l (Some m)
out_story s b l d m e = λ i. if is_some (e i) then story_after_out b l (e i)
    else if is_some d.into then story_after_in s b l d.into else story_after_byte b l d

pub in_story : (s : ScenarioValue) (b : Story) (l : Link) (d : RowReading) (m : MsgIn) → d.out ≡ None → d.into ≡ Some m
    → story_after_crossing s b l d ≡ story_after_in s b l (Some m)
in_story s b l d m e f = (λ i. if is_some (e i) then story_after_out b l (e i)
    else if is_some d.into then story_after_in s b l d.into else story_after_byte b l d)
    ∙ (λ i. if is_some (f i) then story_after_in s b l (f i) else story_after_byte b l d)

-- A byte of a message changes nothing of it.
pub message_story : (s : ScenarioValue) (b : Story) (l : Link) (d : RowReading) → d.out ≡ None → d.into ≡ None
    → d.change.before.msg ≡ true → story_after_crossing s b l d ≡ b
message_story s b l d e f msg = crossed_else s b l d e f
    ∙ ap (λ (q : Bool). if q then b else story_with_carried b (carried_after_byte_if (carried_if b l.item) d)) msg

pub carried_story : (s : ScenarioValue) (b : Story) (l : Link) (d : RowReading)
    → d.out ≡ None → d.into ≡ None → d.change.before.msg ≡ false
    → story_after_crossing s b l d ≡ story_with_carried b (carried_after_byte_if (carried_if b l.item) d)
carried_story s b l d e f msg = crossed_else s b l d e f
    ∙ ap (λ (q : Bool). if q then b else story_with_carried b (carried_after_byte_if (carried_if b l.item) d)) msg
