use Rattle.std.proofs.Common.{sym, ◌+◌, ◌∙◌, length, take, drop, arith}
use Rattle.std.proofs.lemmas.List.{drop-drop}
use Rattle.tape_unit.proofs.StoredTapes.{ahead, ahead_within}
use Rattle.tape_unit.proofs.tape.TapeMedium.copy_ahead.Goals as goal

pub overflow_add-first : goal.overflow_add-first
overflow_add-first c = omega (
  arith,
  ahead_within c.self.invariant c.self.view_is c.bytes_before-first.result c.as_slice.result.now
      c.as_slice.ensures.value c.bytes_before-first.ensures c.args.at (length c.args.into.now) c.requires,
  c.self.inside.bytes.ok,
  c.self.inside.bytes.small,
)

pub copy_from-requires : goal.copy_from-requires
copy_from-requires c = record {
  within = rw c.as_slice-2.ensures.value (ahead_within c.self.invariant c.self.view_is
      c.bytes_before-first.result c.as_slice.result.now c.as_slice.ensures.value c.bytes_before-first.ensures c.args.at
      (length c.args.into.now) c.requires);
}

pub returns : goal.returns
returns c = c.copy_from.ensures ∙ (λ i. take (length c.args.into.now)
    (drop (c.bytes_before-first.result + c.args.at) (c.as_slice-2.ensures.value i)))
    ∙ (λ i. take (length c.args.into.now)
    (sym (drop-drop c.args.at c.bytes_before-first.result c.self.inside.bytes.items) i))
    ∙ (λ i. take (length c.args.into.now) (drop c.args.at (sym (ahead c.self.invariant c.self.view_is
    c.bytes_before-first.result c.as_slice.result.now c.as_slice.ensures.value c.bytes_before-first.ensures) i)))
