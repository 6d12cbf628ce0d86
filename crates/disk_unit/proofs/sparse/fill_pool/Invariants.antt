use Rattle.std.proofs.Common.{◌≡◌, ◌≤◌, take}
use Rattle.std.specs.Vec.{vec_len, vec_capacity}
use Rattle.disk_unit.specs.Sparse.{HaveSize}
use Rattle.disk_unit.proofs.sparse.fill_pool.Given as goal

abbrev pub invariant-loop : goal.invariant-loop
invariant-loop l = (vec_len l.pool ≡ l.counter) × HaveSize l.size l.pool.items
    × (take l.before l.pool.items ≡ l.initial.pool.items) × (l.blocks ≤ vec_capacity l.pool)
