-- A row with which a connection begins: it is that of an abort, of a process that is sent, or of one that its target
-- will name.
use Rattle.transcript_laws.proofs
use proofs.Names.{◌≡◌, ◌∙◌, true, false, List, [], ◌∷◌, Some, None, ap, is_some, if◌then◌else◌, Event, rises}
use proofs.Names.{receiver_of, Connection, Row, ScenarioValue, BusState, RowReading, row_reading, change_by}
use proofs.Names.{bus_state_after, link_events, Item, link_of, Story, aim_of, story_with_restored, story_with_sent}
use proofs.Names.{story_after_connection, story_on_bus, story_with_history, story_with, story_by, opened_connection}
use proofs.Names.{TranscriberValue, under_reset, on_bus, by_change}

-- ---- the story

-- Nothing is shown with it.
pub first_story : (s : ScenarioValue) (b : Story) (row : Row) (d : RowReading) (n : Connection)
    → d.change.after.rst ≡ false → b.bus_state.connection ≡ None → d.next ≡ Some n → b.link ≡ None → story_by s b row d
    ≡ story_with_history (story_after_connection b n) (bus_state_after b.bus_state row d) [] b.history
first_story s b row d n off con next link = ap (λ (shown : List Event). story_with s b row d shown)
    (λ i. if off i then (if rises d.change.own.rst d.change.next.rst then Event.Reset row.dev ∷ [] else [])
    else link_events s b (link i) d)
    ∙ (λ i. story_with_history (if off i then record b { link = None } else story_on_bus s b (con i) (next i) d row)
    (bus_state_after b.bus_state row d) [] b.history)

-- A target began it: nothing else changes.
pub again_story : (b : Story) (n : Connection) → n.reselected ≡ true
    → story_after_connection b n ≡ record b { link = Some (link_of n None) }
again_story b n re =
    let sent : Story = record b { link = Some (link_of n (aim_of b.aims n.initiator)) } in
    λ i. if re i then record b { link = Some (link_of n None) }
    else story_with_restored (story_with_sent sent (aim_of b.aims n.initiator)) (aim_of b.aims n.initiator)

-- An initiator began it, for this item.
pub sent_story : (b : Story) (n : Connection) (item : Item) → n.reselected ≡ false
    → aim_of b.aims n.initiator ≡ Some item → story_after_connection b n
    ≡ story_with_restored (story_with_sent (record b { link = Some (link_of n (Some item)) }) (Some item)) (Some item)
sent_story b n item began aim = (λ i. if began i then record b { link = Some (link_of n None) } else story_with_restored
    (story_with_sent (record b { link = Some (link_of n (aim_of b.aims n.initiator)) }) (aim_of b.aims n.initiator))
    (aim_of b.aims n.initiator))
    ∙ (λ i. story_with_restored (story_with_sent (record b { link = Some (link_of n (aim i)) }) (aim i)) (aim i))

-- No byte crosses with it.
pub first_crosses : (w : BusState) (row : Row) → w.connection ≡ None → (row_reading w row).crosses ≡ false
first_crosses w row con = λ i. is_some (receiver_of (con i) (change_by w row))

-- ---- the transcript

pub first_change : (t : TranscriberValue) (d : RowReading) (row : Row) (n : Connection)
    → d.change.after.rst ≡ false → t.bus_state.connection ≡ None → d.next ≡ Some n
    → by_change t d row ≡ record t { opened = Some (opened_connection n) }
unfolding by_change
first_change t d row n off con next = λ i. if off i then under_reset t d row else on_bus t (con i) (next i) d row
