use Rattle.std.proofs.Common.{◌≤◌, ◌-◌, length, take}
use Rattle.vcd_text.specs.Reading.{taken}
use Rattle.vcd_text.specs.Kept.{ReadsAs, IsShort}
use Rattle.vcd_text.proofs.reader.VcdReader.take_all.Given as goal

abbrev pub invariant-loop-at : goal.invariant-loop-at
invariant-loop-at l = record {
  within : l.at ≤ length l.piece;
  read : ReadsAs l.self (taken l.initial.self (take l.at l.piece));
  short : IsShort l.initial.self.dump l.initial.self.word → IsShort l.self.dump l.self.word;
}

abbrev pub decreases-loop-at : goal.decreases-loop-at
decreases-loop-at l = length l.piece - l.at
