use Rattle.std.proofs.Common.{◌≡◌, ◌+◌, ◌-◌, ◌++◌, vec_len, vec_capacity}
use Rattle.tape_unit.specs.Stored.{block_entries}
use Rattle.tape_unit.proofs.stored.add_blocks.Given as goal

-- With those that are left they are all.
abbrev pub invariant-loop-i : goal.invariant-loop-i
invariant-loop-i l = (vec_len l.objects ≡ vec_len l.initial.objects + l.i)
    × (vec_capacity l.objects ≡ vec_capacity l.initial.objects)
    × (l.objects.items ++ block_entries (l.before + l.i) (l.count - l.i)
    ≡ l.initial.objects.items ++ block_entries l.before l.count)
