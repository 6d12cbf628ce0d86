-- The pointers of the data that a process has carried stand in its bytes, or at their end (6.6.19, 6.6.20).
use Rattle.std.specs.Prelude.{◌≡◌, ◌≤◌, length, Some}
use Rattle.due_model.specs.bus_base.specs.declared.ProcId.{ProcId}
use Rattle.due_model.specs.story_model.specs.CarriedBytes.{Area, CarriedBytes}
use Rattle.due_model.specs.story_model.specs.Links.{Link}
use Rattle.due_model.specs.RunState.{RunState, carried_here}

pub record StandsIn (a : Area) : Type 0 where
  pub active_in : a.active ≤ length a.bytes
  pub saved_in : a.saved ≤ length a.bytes

-- So do those that MESSAGE PARITY ERROR would bring back.
pub record AllStandIn (k : RunState) : Type 0 where
  pub each : (id : ProcId) → StandsIn (carried_here k id).moved
  pub undone : (l : Link) (c : CarriedBytes) → k.story.link ≡ Some l → l.undo ≡ Some c → StandsIn c.moved
