use Rattle.std.proofs.Common.{ℕ, ◌∙◌, ◌+◌, ◌≤◌, sym, arith, length, take, drop, min}
use Rattle.std.proofs.lemmas.List.{length-take}
use Rattle.cdb_codec.specs.declared.replies.TheConstants.{SENSE_LEN, INQUIRY_LEN}
use Rattle.cdb_codec.specs.Replies.{sense_data, tape_inquiry_data}
use Rattle.array_model.specs.Execution.{no_sense}
use Rattle.disk_unit.proofs.Replies.{take_part}
use Rattle.tape_unit.proofs.Ahead.{read_reaches, read_gives}
use Rattle.tape_unit.proofs.commands.copy_reply.Goals as goal

pub copy_ahead-requires : goal.copy_ahead-requires
copy_ahead-requires c = read_reaches c.args.tape.now.tape c.in-Read.count (c.args.at + length c.args.into.now)
    (rw c.in-Read.is at c.requires)

pub returns-in-Read : goal.returns-in-Read
returns-in-Read c = rw c.in-Read.is (c.copy_ahead.ensures ∙ read_gives c.args.tape.now.tape c.in-Read.count c.args.at
    (length c.args.into.now) (rw c.in-Read.is at c.requires))

pub returns-in-RequestSense : goal.returns-in-RequestSense
returns-in-RequestSense c =
    let m : ℕ = min c.in-RequestSense.room SENSE_LEN in
    let within : c.args.at + length c.args.into.now ≤ length (take m (sense_data no_sense)) = rw
    c.in-RequestSense.is at c.requires in
    rw c.in-RequestSense.is
    (c.copy_from.ensures ∙ (λ i. take (length c.args.into.now) (drop c.args.at (c.sense_bytes.ensures i)))
    ∙ sym (take_part (length c.args.into.now) c.args.at m (sense_data no_sense)
    (omega (arith, within, length-take m (sense_data no_sense)))))

pub returns-in-Inquiry : goal.returns-in-Inquiry
returns-in-Inquiry c =
    let m : ℕ = min c.in-Inquiry.room INQUIRY_LEN in
    let within : c.args.at + length c.args.into.now ≤ length (take m tape_inquiry_data) = rw
    c.in-Inquiry.is at c.requires in
    rw c.in-Inquiry.is (c.copy_from-in-Inquiry.ensures
    ∙ (λ i. take (length c.args.into.now) (drop c.args.at (c.tape_inquiry_bytes.ensures i))) ∙ sym (take_part
    (length c.args.into.now) c.args.at m tape_inquiry_data (omega (arith, within, length-take m tape_inquiry_data))))
