-- Two servings of a connection that mean the same: of the process only what the phase needs is alike.
use Rattle.std.specs.Prelude.{◌≡◌, Bool, true, false, not, ◌&&◌, ◌||◌, Option, Some, is_none}
use Rattle.due_model.specs.dialogue_model.specs.declared.exchange.Phase.{Phase}
use Rattle.due_model.specs.dialogue_model.specs.declared.exchange.Plan.{Plan}
use Rattle.due_model.specs.dialogue_model.specs.declared.exchange.Task.{Task}
use Rattle.due_model.specs.dialogue_model.specs.NextPhase.{Serving}
use Rattle.target_units.specs.scsi_device.specs.Heard.{is_opening_in, is_command_phase, moves_data, gives_status}

-- The command matters while data move, and as COMMAND is left with a whole and unstruck block; the status as soon as it
-- may be given with the next row. `leaves` says that the phase may be left.
abbrev pub arrives : Bool → Phase → Plan → Bool → Bool
arrives leaves phase plan whole = leaves && (is_command_phase phase && (not plan.struck && whole))

abbrev pub needs_command : Bool → Phase → Plan → Bool → Bool
needs_command leaves phase plan whole = moves_data phase plan.next || arrives leaves phase plan whole

abbrev pub needs_status : Phase → Plan → Bool
needs_status phase plan = moves_data phase plan.next || gives_status phase plan.next

pub record IsSameCommand (t u : Task) : Type 0 where
  pub writes : t.writes ≡ u.writes
  pub moved : t.moved ≡ u.moved
  pub blocks : t.blocks ≡ u.blocks
  pub size : t.size ≡ u.size

-- Both serve a process; its counts, the hold and whether it has its reply are always alike.
pub record HaveSameTask (leaves : Bool) (phase : Phase) (plan : Plan) (x y : Option Task) : Type 0 where
  pub one : Task
  pub other : Task
  pub one_is : x ≡ Some one
  pub other_is : y ≡ Some other
  pub in_hold : one.in_hold ≡ other.in_hold
  pub recoveries : one.recoveries ≡ other.recoveries
  pub runs : one.runs ≡ other.runs
  pub replied : one.replied ≡ other.replied
  pub whole : is_command_phase phase ≡ true → one.whole ≡ other.whole
  pub status : needs_status phase plan ≡ true → one.status ≡ other.status
  pub command : needs_command leaves phase plan other.whole ≡ true → IsSameCommand one other

-- In the opening no process matters; and whether synchronous transfer may be negotiated does not where it was an abort.
pub record AreAgreeing (leaves : Bool) (phase : Phase) (v w : Serving) : Type 0 where
  pub def : v.def ≡ w.def
  pub given : v.given ≡ w.given
  pub plan : v.plan ≡ record w.plan { negotiates = v.plan.negotiates }
  pub negotiates : leaves ≡ true → is_none w.plan.said.aborts ≡ true → v.plan.negotiates ≡ w.plan.negotiates
  pub task : is_opening_in phase w.plan.cause ≡ false → HaveSameTask leaves phase w.plan v.task w.task
  pub arrival : (t : Task) → w.task ≡ Some t → arrives leaves phase w.plan t.whole ≡ true → v.arrival ≡ w.arrival
