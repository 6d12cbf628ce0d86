use Rattle.std.proofs.Common.{◌≡◌, ◌∙◌, sym}
use Rattle.std.specs.Prelude.{Some, false}
use Rattle.bus_transcript.specs.Opened.{settled, spoken}
use Rattle.bus_transcript.specs.Rows.{TranscriberValue, closed_by, closed_with, finished_if}
use Rattle.bus_transcript.proofs.OnOks.{on_ok}
use Rattle.bus_transcript.proofs.transcriber.Transcriber.settle_if.Goals as goal

pub returns-in-Some : goal.returns-in-Some
unfolding closed_by
returns-in-Some c =
    let t : TranscriberValue = c.args.self.now in
    let is : Some c.in-Some.opened ≡ t.opened = sym c.in-Some.is
    ∙ c.take.ensures.value ∙ (λ i. (c.self.view_is i).opened) in
    on_ok c.settle.result
    (λ h. h ∙ (λ i. closed_with (c.self.view_is i) (settled (spoken c.in-Some.opened) false) false)
    ∙ (λ i. finished_if t (is i))) c.settle.ensures
