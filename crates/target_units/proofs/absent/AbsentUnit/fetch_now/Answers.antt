use Rattle.std.proofs.Common.{◌≡◌, ◌∙◌, true, false, length, take, drop, sym}
use Rattle.std.specs.Prelude.{is_some}
use Rattle.cdb_codec.specs.declared.operation.TheConstants.{INQUIRY}
use Rattle.cdb_codec.specs.Cdb.{command_of}
use Rattle.cdb_codec.specs.Replies.{sense_data}
use Rattle.array_model.specs.Execution.{is_opcode}
use Rattle.target_units.specs.Absent.{inquiry_room, sense_room}
use Rattle.target_units.proofs.AbsentReplies.{inquired_part, sensed_part, no_part}
use Rattle.target_units.proofs.absent.AbsentUnit.fetch_now.Goals as goal

pub returns-then-is_some : goal.returns-then-is_some
returns-then-is_some c =
    let inquires : is_opcode c.args.cdb.now INQUIRY ≡ true = sym c.is_inquiry.ensures ∙ c.if-is_inquiry.true in
    let some : is_some (inquiry_room (command_of c.args.cdb.now)) ≡ true =
    (λ i. is_some (inquiry_room (sym c.from_cdb-command.ensures.exact i)))
    ∙ (λ i. is_some (sym c.inquiry_room.ensures i)) ∙ sym c.is_some.ensures ∙ c.if-is_some.true in
    c.copy_part.ensures ∙ (λ i. take (length c.args.into.now) (drop c.args.at (c.inquiry_bytes.ensures i)))
    ∙ inquired_part c.args.self.now c.args.from c.args.cdb.now c.args.at
    (length c.args.into.now) inquires some c.requires.within

pub returns-then-is_some-2 : goal.returns-then-is_some-2
returns-then-is_some-2 c =
    let inquires : is_opcode c.args.cdb.now INQUIRY ≡ false = sym c.is_inquiry.ensures ∙ c.if-is_inquiry.false in
    let some : is_some (sense_room (command_of c.args.cdb.now)) ≡ true =
    (λ i. is_some (sense_room (sym c.from_cdb-command.ensures.exact i)))
    ∙ (λ i. is_some (sym c.sense_room.ensures i)) ∙ sym c.is_some-else-is_inquiry.ensures ∙ c.if-is_some-2.true in
    c.copy_part-then-is_some-2.ensures ∙ (λ i. take (length c.args.into.now) (drop c.args.at (c.sense_bytes.ensures i)))
    ∙ (λ i. take (length c.args.into.now) (drop c.args.at (sense_data (c.sense_for.ensures i))))
    ∙ sensed_part c.args.self.now c.args.from c.args.cdb.now c.args.at
    (length c.args.into.now) inquires some c.requires.within

pub returns-else-is_some-2 : goal.returns-else-is_some-2
returns-else-is_some-2 c =
    let inquires : is_opcode c.args.cdb.now INQUIRY ≡ false = sym c.is_inquiry.ensures ∙ c.if-is_inquiry.false in
    let none : is_some (sense_room (command_of c.args.cdb.now)) ≡ false =
    (λ i. is_some (sense_room (sym c.from_cdb-command.ensures.exact i)))
    ∙ (λ i. is_some (sym c.sense_room.ensures i)) ∙ sym c.is_some-else-is_inquiry.ensures ∙ c.if-is_some-2.false in
    no_part c.args.self.now c.args.from c.args.cdb.now c.args.at c.args.into.now inquires none c.requires.within
