use Rattle.std.proofs.Common.{◌≡◌, ◌∙◌, true, false, sym, subst, Option}
use Rattle.std.specs.Prelude.{is_some}
use Rattle.bus_trace.specs.declared.connection.Connection.{Connection}
use Rattle.target_course.specs.scsi_device.specs.Writes.{brings_byte}
use Rattle.disk_target.specs.Bytes.{IsOwnIf}
use Rattle.disk_target.specs.Knowns.{knows_command}
use Rattle.disk_target.proofs.Quiet.{crosses_by}
use Rattle.disk_target.proofs.target.Target.sent.Goals as goal

pub returns-then-not-brings_byte : goal.returns-then-not-brings_byte
returns-then-not-brings_byte c = λ s rows row fits devices tied time h hears was stood knows.
    (λ i. brings_byte (sym hears i)) ∙ sym c.brings_byte.ensures ∙ c.if-not-brings_byte.true

pub returns-in-Some-Some : goal.returns-in-Some-Some
returns-in-Some-Some c = λ s rows row fits devices tied time h hears was stood knows.
    let it = subst (λ (x : Option Connection). IsOwnIf rows c.args.self.now.def.dev x) c.in-Some-Some.is-0 was in
    c.sent_in.ensures s rows row fits devices tied time h it.0 it.1

pub returns-in_default : goal.returns-in_default
returns-in_default c = λ s rows row fits devices tied time h hears was stood knows.
    let never : true ≡ false =
    sym (knows (crosses_by c.args.hearing.now (sym c.brings_byte.ensures ∙ c.if-not-brings_byte.false)))
    ∙ (λ i. knows_command (sym c.self.view_is i).course) ∙ (λ i. knows_command (c.in_default.is-1 i)) in
    absurd cc

pub returns-in_default-2 : goal.returns-in_default-2
returns-in_default-2 c = λ s rows row fits devices tied time h hears was stood knows.
    let never : true ≡ false = sym stood ∙ (λ i. is_some (c.in_default.is-0 i)) in
    absurd cc

pub sent_in-requires : goal.sent_in-requires
sent_in-requires c = record { course = (λ i. (sym c.self.view_is i).course) ∙ c.in-Some-Some.is-1 }
