use Rattle.std.proofs.Common.{◌≡◌, ◌&&◌, drop}
use Rattle.std.specs.List.{list_all}
use Rattle.scenario.specs.Reading.{is_printable}
use Rattle.scenario.proofs.limits.are_printable.Given as goal

abbrev pub invariant-loop-byte : goal.invariant-loop-byte
invariant-loop-byte l = (l.are && list_all is_printable (drop l.byte-index l.text)) ≡ list_all is_printable l.text
