use Rattle.std.proofs.Common.{◌∙◌, sym}
use Rattle.array_model.specs.Contents.{is_reeled}
use Rattle.tape_unit.specs.Drives.{drive_contents}
use Rattle.array_model.specs.Seats.{contents_of}
use Rattle.target_units.proofs.seated.SeatedUnit.is_serial.Goals as goal

pub returns-clause-exact : goal.returns-clause-exact
returns-clause-exact c = c.is_tape.ensures ∙ (λ i. is_reeled (drive_contents (c.medium.ensures i)))
    ∙ (λ i. is_reeled (c.self.view_is i).contents)

pub returns-clause-seat : goal.returns-clause-seat
returns-clause-seat c = λ hosts seat time h.
    returns-clause-exact c ∙ (λ i. is_reeled (sym h.2.kept.contents i))
    ∙ (λ i. is_reeled (contents_of (sym h.2.kept.there i)))
