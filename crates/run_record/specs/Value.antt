-- What contracts see of a run.
use Rattle.std.specs.Prelude.{ℕ, List}
use Rattle.bus_base.specs.declared.Event.{Event}
use Rattle.bus_trace.specs.declared.Row.{Row}
use Rattle.array_model.specs.Contents.{Contents}
use Rattle.array_model.specs.Execution.{tape_contents}
use Rattle.disk_unit.specs.Sparse.{Store}
use Rattle.tape_unit.specs.Stored.{Store as TapeStore}
use Rattle.run_record.specs.declared.outcome.Outcome.{Outcome}

-- The contents of a disk.
abbrev pub held_by : Store → Contents
held_by store = store.contents

-- Those of a tape.
abbrev pub reeled_by : TapeStore → Contents
reeled_by store = tape_contents store.tape

pub record RunValue : Type 0 where
  -- the rows of the trace, the oldest first
  pub rows : List Row
  -- the time of the last row, in ns, or 0
  pub end : ℕ
  -- what the rows show, in their order
  pub history : List Event
  -- how each command ended
  pub replies : List Outcome
  -- what each disk holds at the end
  pub disks : List Contents
  -- what stands on each tape, and where it stands
  pub tapes : List Contents
