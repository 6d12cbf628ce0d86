-- A row of a connection leaves what is sent, but for its events.
use Rattle.story_laws.proofs
use proofs.Names.{◌≡◌, Bool, true, false, ◌∙◌, Option, Some, None, refl, if◌then◌else◌, is_none, Kind, Drives, Fault}
use proofs.Names.{Row, MsgIn, ScenarioValue, restored_sent, RowReading, CarriedBytes, carried_if, last_in, Link}
use proofs.Names.{link_after_name, Story, story_with_restored, story_with_carried, is_parity_error, story_after_message}
use proofs.Names.{carried_after_byte_if, carried_after_fault_if, story_after_fault, story_in_connection, StoryWay, says}
use proofs.Names.{hears, carries, story_way}
use Rattle.row_laws.proofs.Common.StoryWays.{stays}

pub carried_sent : (a : Story) (c : Option CarriedBytes) → (story_with_carried a c).sent ≡ a.sent
carried_sent a None = refl
carried_sent a (Some c) = refl

pub inside_sent : (s : ScenarioValue) (b : Story) (l : Link) (d : RowReading) (row : Row)
    → (story_in_connection s b (Some l) d row).sent ≡ b.sent
inside_sent s b l d row = by (story_way s b l d row)
  where
    faulted : (kind : Kind) → (story_after_fault b l kind).sent ≡ b.sent
    faulted (Drives lines) = refl
    faulted (Fault bit) = carried_sent b (carried_after_fault_if (carried_if b l.item) b.bus_state.crossed)

    crossed : (q : Bool)
        → (if q then b else story_with_carried b (carried_after_byte_if (carried_if b l.item) d)).sent ≡ b.sent
    crossed true = refl
    crossed false = carried_sent b (carried_after_byte_if (carried_if b l.item) d)

    heard : (m : MsgIn) (q : Bool)
        → (story_after_message s (if q then story_with_restored b (link_after_name b.sent s.commands l m).item else b)
        (record (link_after_name b.sent s.commands l m) {
          last = last_in m;
          before = l.last;
          undo = carried_if b l.item;
        }) m).sent ≡ b.sent
    heard m true = carried_sent _ _ ∙ restored_sent b (link_after_name b.sent s.commands l m).item
    heard m false = carried_sent _ _

    by : {after : Story} → StoryWay s b l d row after → after.sent ≡ b.sent
    by (says m _ _) = carried_sent _ (if is_parity_error m then l.undo else None)
    by (hears m _ _ _) = heard m (is_none l.item)
    by (carries _ _ _) = crossed d.change.before.msg
    by (stays _) = faulted row.kind
