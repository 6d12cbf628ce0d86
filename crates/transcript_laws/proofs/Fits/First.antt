-- A row with which a connection begins: of an initiator's, its item is fresh; and neither COMMAND nor STATUS begins
-- with it.
use Rattle.transcript_laws.proofs
use proofs.Names.{◌≡◌, ◌∙◌, true, false, not, ◌&&◌, List, ◌∷◌, Option, Some, None, sym, ap, is_none, ProcId, change_of}
use proofs.Names.{is_command, connection, Change, Connection, Row, ScenarioValue, Obeys, row_reading, carried_at}
use proofs.Names.{is_status_phase, Item, process, abort, has_item, Story, aim_of, IsPrompt, run_state, change_plain}
use proofs.Names.{least_is, BeginsConnection, by_selection, by_reselection, none_some, RowKindOf, begins_now, goes_now}
use proofs.Names.{row_kind, calm_after, items_fresh, items_sent, Whole, is_fresh}

fresh_by : (b : Story) (item : Item) → has_item b.sent.sent item ≡ false
    → ((id : ProcId) → has_item b.sent.sent (process id) ≡ false → carried_at b.carried id ≡ None)
    → is_fresh b (Some item) ≡ true
fresh_by b (process id) e c = λ i. not (e i) && is_none (c id e i)
fresh_by b (abort j) e c = ap not e

pub fresh_item : (s : ScenarioValue) (p : List Row) (row : Row) (n : Connection) → Obeys s → IsPrompt s (row ∷ p)
    → Whole s p → connection p ≡ None → connection (row ∷ p) ≡ Some n → n.reselected ≡ false
    → is_fresh (run_state s p).story (aim_of (run_state s p).story.aims n.initiator) ≡ true
fresh_item s p row n o prompt was alone after selects =
    let f = items_fresh s p row n o prompt was.stood was.facts.items alone after selects in
    ap (λ (item : Option Item). is_fresh (run_state s p).story item) f.aim_is
    ∙ fresh_by (run_state s p).story f.item f.unsent (items_sent s p was.facts.items).carried

-- The lines of the phase after it.
pub record BeginsQuiet (c : Change) : Type 0 where
  pub command : is_command c.after ≡ false
  pub status : is_status_phase c.after ≡ false

pub begins_quiet : (s : ScenarioValue) (p : List Row) (row : Row) (n : Connection) → Obeys s
    → IsPrompt s (row ∷ p) → Whole s p → connection p ≡ None → connection (row ∷ p) ≡ Some n
    → BeginsQuiet (row_reading (run_state s p).story.bus_state row).change
begins_quiet s p row n o prompt was alone after =
    go (row_kind s p row n o prompt was.stood after (calm_after p row n alone after))
  where
    c : (row_reading (run_state s p).story.bus_state row).change ≡ change_of p row
    c = change_plain s row p was.stood.standing.devices (least_is s p row prompt.1).inside

    lines : BeginsConnection (row ∷ p) n → BeginsQuiet (row_reading (run_state s p).story.bus_state row).change
    lines (by_selection h) = record {
      command = ap (λ (x : Change). is_command x.after) c ∙ ap is_command h.linked.stands.bus_is;
      status = ap (λ (x : Change). is_status_phase x.after) c ∙ ap is_status_phase h.linked.stands.bus_is;
    }
    lines (by_reselection y h) = record {
      command = ap (λ (x : Change). is_command x.after) c ∙ ap is_command h.linked.stands.bus_is;
      status = ap (λ (x : Change). is_status_phase x.after) c ∙ ap is_status_phase h.linked.stands.bus_is;
    }

    go : RowKindOf s p row n → BeginsQuiet (row_reading (run_state s p).story.bus_state row).change
    go (begins_now none f) = lines f.begins
    go (goes_now con off) = absurd (none_some n (sym alone ∙ con))
