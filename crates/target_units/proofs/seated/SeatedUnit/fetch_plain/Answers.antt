use Rattle.std.proofs.Common.{ℕ, ◌≤◌, ◌+◌, ◌∙◌, List, [], length, take, drop, sym, subst, None}
use Rattle.std.specs.Prelude.{slice_index_or}
use Rattle.array_model.specs.Execution.{execution}
use Rattle.tape_unit.specs.Drives.{drive_contents}
use Rattle.target_units.specs.Seated.{seated_context}
use Rattle.target_units.proofs.Tellings.{plain_bytes}
use Rattle.target_units.proofs.seated.SeatedUnit.fetch_plain.Goals as goal

pub fetch_for-requires-clause-within : goal.fetch_for-requires-clause-within
fetch_for-requires-clause-within c =
    let s = c.self.inside.unit in
    let same = plain_bytes (drive_contents s.medium) (slice_index_or s.books.senses c.args.from None)
    (slice_index_or s.books.attentions c.args.from None) c.args.cdb.now c.requires.plain
    ∙ (λ i. (execution (seated_context (c.self.view_is i) c.args.from) c.args.cdb.now []).reply.bytes) in
    subst (λ (b : List ℕ). c.args.at + length c.args.into.now ≤ length b) (sym same) c.requires.within

pub returns : goal.returns
returns c =
    let s = c.self.inside.unit in
    let same = plain_bytes (drive_contents s.medium) (slice_index_or s.books.senses c.args.from None)
    (slice_index_or s.books.attentions c.args.from None) c.args.cdb.now c.requires.plain
    ∙ (λ i. (execution (seated_context (c.self.view_is i) c.args.from) c.args.cdb.now []).reply.bytes) in
    c.fetch_for.ensures ∙ (λ i. take (length c.args.into.now) (drop c.args.at (same i)))
