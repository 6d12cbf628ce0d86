-- At most the limit has been taken so far, and what that left of the source.
use Rattle.std.proofs.Common.{ℕ, ◌≡◌, ◌-◌, ◌≤◌, List, length}
use Rattle.vcd_text.specs.declared.limit.TheConstants.{LIMIT as DUMP_LIMIT}
use Rattle.vcd_text.specs.Reading.{no_bytes, taken}
use Rattle.vcd_text.specs.Kept.{ReadsAs}
use Rattle.bus_base.proofs.ReadSoFar.{HasRead}
use Rattle.bus_cli.proofs.undumping.take_dump.Given as goal

abbrev pub invariant-loop-reader : goal.invariant-loop-reader
invariant-loop-reader g l = record {
  within : l.count ≤ DUMP_LIMIT;
  never_falls : g.S.Source.faults l.initial.input ≤ g.S.Source.faults l.input;
  read : (bytes : List ℕ) × HasRead (g.S.Source.left l.initial.input) (g.S.Source.left l.input) bytes
      × (length bytes ≡ l.count) × ReadsAs l.reader (taken no_bytes bytes);
}

abbrev pub decreases-loop-reader : goal.decreases-loop-reader
decreases-loop-reader g l = DUMP_LIMIT - l.count
