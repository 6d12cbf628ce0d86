use Rattle.std.proofs.Common.{◌≡◌, ◌++◌, take, map}
use Rattle.std.specs.List.{flat_map}
use Rattle.scenario.specs.Writing.{said_line, said_tape}
use Rattle.scenario.proofs.writing.put_tapes.Given as goal

abbrev pub invariant-loop-def : goal.invariant-loop-def
invariant-loop-def l = l.out.items ≡ l.initial.out.items ++ flat_map said_line (map said_tape (take l.def-index l.defs))
