use Rattle.std.proofs.Common.{ℕ, rules, arith}
use Rattle.std.specs.Prelude.{nat_lt}
use Rattle.std.specs.List.Sorted.{IsPartitionedBy}
use Rattle.std.proofs.lemmas.Fn.{always_returns_same}
use Rattle.disk_unit.proofs.Touched.{place_is, rising_order}
use Rattle.disk_unit.proofs.sparse.place_of.Goals as goal
use Rattle.std.proofs.lemmas.Bool.{lt-ltb, ltb-true, ltb-false}

pub returns-clause-exact : goal.returns-clause-exact
returns-clause-exact c =
    let numbers = c.args.numbers.now in
    let parts : IsPartitionedBy (λ (n : ℕ). nat_lt n c.args.from) numbers = λ i j d order within e. let below = ltb-true
    _ _ e in let ordered = rising_order 0 numbers i j d c.requires order within in lt-ltb _ _ (omega arith) in
    let point = c.partition_point.ensures.partitioned (λ n. nat_lt n c.args.from)
    (always_returns_same _ _ _ (λ a r f k. search rules)) parts in
    place_is numbers c.args.from c.partition_point.result c.partition_point.ensures.bound
    (λ k h. ltb-true _ _ (point.0 k 0 (omega arith) h)) (λ k h l. ltb-false _ _ (point.1 k 0 h l))
