-- The code of the failure of a process over the rows outside a connection, and those that begin or end one.
use Rattle.trace_laws.proofs
use proofs.Names.{◌≡◌, Bool, true, false, ◌∙◌, List, Option, Some, None, refl, sym, ap, subst, if◌then◌else◌, ProcId}
use proofs.Names.{Row, Connection, ScenarioValue, free_carried, RowReading, row_reading, CarriedBytes, carried_of}
use proofs.Names.{row_events_by, Item, link_of, Story, aim_of, story_after_connection, story_by_change, story_on_bus}
use proofs.Names.{story_with_restored, story_with_sent, RunState, carried_here, run_state_after, IsClear}
use proofs.Failures.Bytes.{SameFail, clear_as, events_fail, restored_clear}

-- But for the events of the row.
changed_fails : (s : ScenarioValue) (k : RunState) (row : Row) (b : Story) (id : ProcId)
    → story_by_change s k.story (row_reading k.story.bus_state row) row ≡ b
    → SameFail (carried_of b.carried id) (carried_here (run_state_after s k row) id)
changed_fails s k row b id e = subst
    (λ (x : Story). SameFail (carried_of x.carried id) (carried_here (run_state_after s k row) id)) e
    (events_fail s (story_by_change s k.story (row_reading k.story.bus_state row) row)
    (row_events_by s k.story (row_reading k.story.bus_state row) row) id)

-- RST ends the connection.
pub reset_same : (s : ScenarioValue) (k : RunState) (row : Row) (id : ProcId)
    → (row_reading k.story.bus_state row).change.after.rst ≡ true
    → SameFail (carried_here k id) (carried_here (run_state_after s k row) id)
reset_same s k row id e = changed_fails s k row (record k.story { link = None }) id
    (ap (λ (q : Bool). if q then record k.story { link = None } else story_on_bus s k.story k.story.bus_state.connection
    (row_reading k.story.bus_state row).next (row_reading k.story.bus_state row) row) e)

-- It ends with the row.
pub ends_same : (s : ScenarioValue) (k : RunState) (row : Row) (n : Connection) (id : ProcId)
    → k.story.bus_state.connection ≡ Some n → (row_reading k.story.bus_state row).next ≡ None
    → SameFail (carried_here k id) (carried_here (run_state_after s k row) id)
ends_same s k row n id con next = changed_fails s k row (record k.story { link = None }) id
    ((λ i. if (row_reading k.story.bus_state row).change.after.rst then record k.story { link = None }
    else story_on_bus s k.story (con i) (next i) (row_reading k.story.bus_state row) row)
    ∙ same (row_reading k.story.bus_state row).change.after.rst)
  where
    same : (q : Bool) → (if q then record k.story { link = None } else record k.story { link = None })
        ≡ record k.story { link = None }
    same true = refl
    same false = refl

begun_clear : (b : Story) (n : Connection) (id : ProcId) → IsClear (carried_of b.carried id)
    → IsClear (carried_of (story_after_connection b n).carried id)
begun_clear b n id h = go n.reselected (aim_of b.aims n.initiator)
  where
    sent : (item : Option Item)
        → IsClear (carried_of (story_with_sent (record b { link = Some (link_of n item) }) item).carried id)
    sent None = h
    sent (Some x) = h

    go : (q : Bool) (item : Option Item) → IsClear (carried_of (if q then record b { link = Some (link_of n None) }
        else story_with_restored (story_with_sent (record b { link = Some (link_of n item) }) item) item).carried id)
    go true item = h
    go false item =
        restored_clear (story_with_sent (record b { link = Some (link_of n item) }) item) item id (sent item)

-- No connection stands before the row: what was clear is so after it, a connection begins or not.
pub apart_clear : (s : ScenarioValue) (k : RunState) (row : Row) (id : ProcId) → k.story.bus_state.connection ≡ None
    → IsClear (carried_here k id) → IsClear (carried_here (run_state_after s k row) id)
apart_clear s k row id con h = clear_as _ _ (changed_fails s k row after id
    (λ i. if d.change.after.rst then record k.story { link = None } else story_on_bus s k.story (con i) d.next d row))
    (go d.change.after.rst d.next)
  where
    d : RowReading
    d = row_reading k.story.bus_state row

    after : Story
    after = if d.change.after.rst then record k.story { link = None } else story_on_bus s k.story None d.next d row

    go : (q : Bool) (o : Option Connection) → IsClear
        (carried_of (if q then record k.story { link = None } else story_on_bus s k.story None o d row).carried id)
    go true o = h
    go false None =
        subst (λ (all : List CarriedBytes). IsClear (carried_of all id)) (sym (free_carried s k.story d row)) h
    go false (Some n) = begun_clear k.story n id h
