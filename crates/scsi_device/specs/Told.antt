-- What any device is told after some rows, what it drives, and which fault strikes its next sample.
use Rattle.std.specs.Prelude.{ℕ, ◌≡◌, Bool, List, [], ◌∷◌, Option, Some, None, nat_le, if◌then◌else◌}
use Rattle.bus_trace.specs.LineSet.{LineSet}
use Rattle.bus_trace.specs.Trace.{drives, last_time}
use Rattle.bus_trace.specs.Terms.{connection, receiver}
use Rattle.bus_trace.specs.declared.Row.{Row}
use Rattle.bus_trace.specs.declared.agreements.Agreement.{Agreement}
use Rattle.bus_trace.specs.declared.connection.Connection.{Connection}
use Rattle.bus_lines.specs.Handshakes.{Handshakes, handshakes}
use Rattle.bus_lines.specs.declared.stage.Stage.TheVariants.{OnFreeBus}
use Rattle.due_model.specs.bus_phases.specs.declared.words.End.{End}
use Rattle.due_model.specs.bus_phases.specs.Dialogue.{dialogue}
use Rattle.scenario.specs.declared.value.FaultDef.{FaultDef}
use Rattle.scenario.specs.declared.value.HostDef.{HostDef}
use Rattle.reaction_model.specs.declared.ends.Pace.{Pace}
use Rattle.reaction_model.specs.declared.sight.Sight.{Sight}
use Rattle.reaction_model.specs.Sight.{sight}
use Rattle.due_model.specs.dialogue_model.specs.Ends.{pace_by}
use Rattle.due_model.specs.dialogue_model.specs.Hearing.{begun}
use Rattle.due_model.specs.Sights.{flip_of}

pub record Told : Type 0 where
  pub sight : Sight
  pub handshakes : Handshakes
  pub last : ℕ
  pub receiver : Option ℕ
  pub connection : Option Connection
  -- of the connection: whether a phase has begun in it, its agreement, and whose request is open
  pub begun : Bool
  pub agreement : Agreement
  pub offer : Option End
  pub lines : LineSet

abbrev pub told : List Row → ℕ → Told
told rows dev = record {
  sight = sight rows;
  handshakes = handshakes rows;
  last = last_time rows;
  receiver = receiver rows;
  connection = connection rows;
  begun = begun rows;
  agreement = (dialogue rows).heard.now.agreement;
  offer = (dialogue rows).heard.now.offer;
  lines = drives rows dev;
}

-- By REQ and ACK it never goes by the stage.
abbrev pub at_no_stage : Sight → Sight
at_no_stage v = record v { stage = OnFreeBus 0 }

-- How bytes cross in the phase (6.1.5): an initiator has a lag, a target has none.
abbrev pub pace_of : Told → Option HostDef → Pace
pace_of t host = pace_by t.begun t.sight.bus t.agreement host

-- ---- faults: the first that has not struck yet

abbrev pub first_fault : List FaultDef → Option FaultDef
first_fault [] = None
first_fault (f ∷ faults) = Some f

abbrev pub flip_by : Option FaultDef → ℕ → Option ℕ
flip_by None time = None
flip_by (Some f) time = if nat_le f.at time then Some f.bit else None

-- What flips in a byte goes by the first fault alone.
abbrev pub AreFlips : Type 0
AreFlips = (faults : List FaultDef) (f : Option FaultDef) (time : ℕ) → f ≡ first_fault faults
    → flip_of faults time ≡ flip_by f time
