use Rattle.std.proofs.Common.{◌≡◌, ◌+◌, ◌-◌, ◌++◌, vec_len, vec_capacity}
use Rattle.tape_unit.specs.Stored.{filemark_entries}
use Rattle.tape_unit.proofs.stored.add_filemarks.Given as goal

-- With those that are left they are all.
abbrev pub invariant-loop : goal.invariant-loop
invariant-loop l = (vec_len l.objects ≡ vec_len l.initial.objects + l.counter)
    × (vec_capacity l.objects ≡ vec_capacity l.initial.objects)
    × (l.objects.items ++ filemark_entries l.before (l.count - l.counter)
    ≡ l.initial.objects.items ++ filemark_entries l.before l.count)
