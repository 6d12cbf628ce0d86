-- The unit that is ready for a reselection.
use Rattle.std.specs.Prelude.{Option, Some, None}
use Rattle.due_model.specs.dialogue_model.specs.Wants as wants
use Rattle.target_units.specs.declared.ready.Ready.{Ready}

-- Of a ready process a target needs its time, its initiator and its unit.
abbrev pub ready_unit : Option wants.Ready → Option Ready
ready_unit None = None
ready_unit (Some r) = Some (record { time = r.time; initiator = r.process.initiator; unit = r.process.unit })
