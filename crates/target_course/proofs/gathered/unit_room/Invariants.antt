use Rattle.std.specs.Prelude.{◌≡◌, max, drop}
use Rattle.target_course.specs.Gathered.{most_room, unit_room}
use Rattle.target_course.proofs.gathered.unit_room.Given as goal

abbrev pub invariant-loop-def : goal.invariant-loop-def
invariant-loop-def l = max l.most (most_room l.scenario l.dev l.unit (drop l.def-index l.scenario.commands))
    ≡ unit_room l.scenario l.dev l.unit
