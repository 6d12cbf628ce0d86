-- What a command needs at a disk and at a tape.
use Rattle.std.proofs.Common.{◌≡◌, ℕ, Bool, true, false, List, [], Result, Ok, Err, refl, ap, ◌∙◌}
use Rattle.std.specs.Prelude.{if◌then◌else◌}
use Rattle.cdb_codec.specs.declared.command.CdbFault.{CdbFault}
use Rattle.cdb_codec.specs.declared.tape_command.TapeCommand.{TapeCommand}
use Rattle.cdb_codec.specs.Cdb.{command_of}
use Rattle.cdb_codec.specs.TapeCdb.{tape_command_of}
use Rattle.cdb_codec.specs.Kinds.{is_tape_write}
use Rattle.cdb_codec.proofs.Readings.{writes_alike}
use Rattle.scenario.specs.declared.value.CmdDef.{CmdDef}
use Rattle.scenario.specs.declared.value.TapeDef.{TapeDef}
use Rattle.scenario.specs.Value.{ScenarioValue}
use Rattle.scenario.specs.Lookups.{has_target, unit_of, is_tape}
use Rattle.scenario.specs.Needs.{moved_by, tape_moved_by, need_at, need_of, is_write, sent_of}

-- At a target that is there, a command needs what its block needs at its unit.
pub need_is : (s : ScenarioValue) (c : CmdDef) → has_target s c.target ≡ true
    → need_of s c ≡ need_at (is_tape s c.target c.unit) c.cdb (unit_of s c.target c.unit)
unfolding need_of
need_is s c t = λ i. if t i then need_at (is_tape s c.target c.unit) c.cdb (unit_of s c.target c.unit) else 0

-- Where the unit is no tape, that is what the disk's reading of the block moves.
pub disk_need : (s : ScenarioValue) (c : CmdDef) → is_tape s c.target c.unit ≡ false
    → need_of s c ≡ (if has_target s c.target then moved_by (command_of c.cdb) (unit_of s c.target c.unit) else 0)
unfolding need_of
disk_need s c e = λ i. if has_target s c.target then need_at (e i) c.cdb (unit_of s c.target c.unit) else 0

-- Where it is one, that is what the tape's reading moves.
pub tape_need : (s : ScenarioValue) (c : CmdDef) → is_tape s c.target c.unit ≡ true → need_of s c
    ≡ (if has_target s c.target then tape_moved_by (tape_command_of c.cdb) (unit_of s c.target c.unit) else 0)
unfolding need_of
tape_need s c e = λ i. if has_target s c.target then need_at (e i) c.cdb (unit_of s c.target c.unit) else 0

zero_if : (q : Bool) (n : ℕ) → n ≡ 0 → (if q then n else 0) ≡ 0
zero_if true n e = e
zero_if false n e = refl

-- Without tapes no unit is one.
pub no_tape : (s : ScenarioValue) (target unit : ℕ) → s.tapes ≡ [] → is_tape s target unit ≡ false
no_tape s target unit e = ap (λ (tapes : List TapeDef). is_tape (record s { tapes = tapes }) target unit) e

pub plain_need : (s : ScenarioValue) (c : CmdDef) → s.tapes ≡ []
    → need_of s c ≡ (if has_target s c.target then moved_by (command_of c.cdb) (unit_of s c.target c.unit) else 0)
plain_need s c e = disk_need s c (no_tape s c.target c.unit e)

-- A tape takes what a WRITE needs, and nothing else is sent to it.
pub sent_to_tape : (s : ScenarioValue) (c : CmdDef) → is_tape s c.target c.unit ≡ true
    → sent_of s c ≡ (if is_tape_write (tape_command_of c.cdb) then need_of s c else 0)
unfolding sent_of
sent_to_tape s c e = go (tape_command_of c.cdb) refl where
  go : (r : Result TapeCommand CdbFault) → tape_command_of c.cdb ≡ r
      → (if is_write (command_of c.cdb) then need_of s c else 0) ≡ (if is_tape_write r then need_of s c else 0)
  go (Ok k) f = λ i. if writes_alike c.cdb k f i then need_of s c else 0
  go (Err fault) f =
      zero_if (is_write (command_of c.cdb)) (need_of s c) (tape_need s c e ∙ zero_if (has_target s c.target)
      (tape_moved_by (tape_command_of c.cdb) (unit_of s c.target c.unit))
      (ap (λ (r : Result TapeCommand CdbFault). tape_moved_by r (unit_of s c.target c.unit)) f))
