-- A command gives no more bytes than its initiator has room for, where its target is one of the scenario (7.3, 8.2,
-- 9.2).
use Rattle.std.proofs.Common.{ℕ, ◌≡◌, ◌≤◌, ◌-◌, ◌^◌, Bool, true, false, sym, subst, arith}
use Rattle.std.specs.Prelude.{if◌then◌else◌, min}
use Rattle.cdb_codec.specs.Cdb.{command_of}
use Rattle.scenario.specs.Lookups.{has_target, is_tape, unit_of}
use Rattle.scenario.specs.Needs.{is_write, need_of}
use Rattle.scenario.specs.Value.{ScenarioValue}
use Rattle.scenario.specs.declared.value.CmdDef.{CmdDef}
use Rattle.initiator.specs.Received.{data_room}
use Rattle.scenario.proofs.TapeNeeds.{need_is}
use Rattle.delivery_laws.specs.right_laws.proofs.Ran.Lengths.{most_given}

-- A command of a scenario needs 65536 bytes at most.
pub room_there : (s : ScenarioValue) (c : CmdDef) (n : ℕ) → has_target s c.target ≡ true → need_of s c ≤ 65536
    → n ≤ most_given (is_tape s c.target c.unit) c.cdb (unit_of s c.target c.unit) → n ≤ data_room s c
room_there s c n there most few = go (is_write (command_of c.cdb))
    (subst (λ (x : ℕ). n ≤ (if is_write (command_of c.cdb) then 0 else x)) (sym (need_is s c there)) few)
  where
    in_room : (need : ℕ) → need ≤ 65536 → n ≤ need → n ≤ min need (2 ^ 32 - 1)
    in_room need k f = omega (arith, k, f)

    go : (q : Bool) → n ≤ (if q then 0 else need_of s c) → n ≤ (if q then 0 else min (need_of s c) (2 ^ 32 - 1))
    go true f = f
    go false f = in_room (need_of s c) most f
