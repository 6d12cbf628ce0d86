use Rattle.std.proofs.Common.{◌≡◌, true, sym, ◌∙◌}
use Rattle.story_model.specs.BusState.{BusState}
use Rattle.story_model.specs.PairAgreements.{agreement_in}
use Rattle.bus_transcript.specs.Rows.{is_silent}
use Rattle.bus_transcript.proofs.Silence.{silent_stays}
use Rattle.bus_transcript.proofs.bus.Bus.step_dialogue.Goals as goal

pub returns-then-is_silent : goal.returns-then-is_silent
returns-then-is_silent c =
    let w : BusState = c.args.self.now in
    let d = c.args.reading.now in
    let seen : is_silent c.self.inside.connection c.reading.inside.next c.reading.inside.change
    ≡ is_silent w.connection d.next d.change = λ i. is_silent (c.self.view_is i).connection
    (c.reading.view_is i).next (c.reading.view_is i).change in
    let is : is_silent w.connection d.next d.change ≡ true = sym seen ∙ sym c.is_silent.ensures ∙ c.if-is_silent.true in
    λ i. record w {
      dialogue = silent_stays w.connection d.next w.dialogue (λ i t. agreement_in w.agreed i t) d.change is i;
    }
