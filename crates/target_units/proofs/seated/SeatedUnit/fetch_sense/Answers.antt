use Rattle.std.proofs.Common.{ℕ, ◌≡◌, ◌≤◌, ◌+◌, ◌∙◌, List, [], length, take, drop, sym, subst, true, None}
use Rattle.std.specs.Prelude.{slice_index_or}
use Rattle.cdb_codec.specs.Replies.{sense_data}
use Rattle.array_model.specs.Execution.{execution, returned_sense}
use Rattle.disk_unit.specs.Books.{sense_or_none}
use Rattle.target_units.specs.Seated.{SeatedState, seated_context}
use Rattle.target_units.proofs.Tellings.{IsSensed, sense_bytes as sensed, sense_within, sense_part, stored_sense}
use Rattle.target_units.proofs.seated.SeatedUnit.fetch_sense.Goals as goal

pub returns : goal.returns
returns c =
    let v : SeatedState = c.args.self.now in
    let stored = slice_index_or v.books.senses c.args.from None in
    let bytes : List ℕ = (execution (seated_context v c.args.from) c.args.cdb.now []).reply.bytes in
    let is : IsSensed bytes (returned_sense true stored) = sensed v.contents stored
    (slice_index_or v.books.attentions c.args.from None) c.args.cdb.now c.requires.sense in
    let sense : c.sense_for.result ≡ returned_sense true stored = c.sense_for.ensures
    ∙ (λ i. sense_or_none (slice_index_or (c.self.view_is i).books.senses c.args.from None)) ∙ stored_sense stored in
    c.copy_part.ensures ∙ (λ i. take (length c.args.into.now) (drop c.args.at (c.sense_bytes-data.ensures i)))
    ∙ (λ i. take (length c.args.into.now) (drop c.args.at (sense_data (sense i))))
    ∙ sense_part bytes (returned_sense true stored) c.args.at (length c.args.into.now) is c.requires.within

pub copy_part-requires : goal.copy_part-requires
copy_part-requires c =
    let v : SeatedState = c.args.self.now in
    let stored = slice_index_or v.books.senses c.args.from None in
    let bytes : List ℕ = (execution (seated_context v c.args.from) c.args.cdb.now []).reply.bytes in
    let is : IsSensed bytes (returned_sense true stored) = sensed v.contents stored
    (slice_index_or v.books.attentions c.args.from None) c.args.cdb.now c.requires.sense in
    record {
      within = subst (λ (b : List ℕ). c.args.at + length c.args.into.now ≤ length b) (sym c.sense_bytes-data.ensures)
          (sense_within bytes (returned_sense true stored) c.args.at (length c.args.into.now) is c.requires.within);
    }
