use Rattle.std.proofs.Common.{◌++◌, take}
use Rattle.vcd_text.specs.Kept.{StandsFor, IsShort}
use Rattle.vcd_text.proofs.kept.keep_all.Given as goal

abbrev pub invariant-loop-byte : goal.invariant-loop-byte
invariant-loop-byte l = record {
  kept : StandsFor l.dump l.kept (l.initial.kept ++ take l.byte-index l.text);
  short : IsShort l.dump l.initial.kept → IsShort l.dump l.kept;
}
