use Rattle.std.proofs.Common.{◌≡◌, ◌∙◌, sym}
use Rattle.std.specs.Prelude.{Some}
use Rattle.bus_transcript.specs.Rows.{TranscriberValue, closed_phase, closed_if}
use Rattle.bus_transcript.proofs.Closing.{phase_apart}
use Rattle.bus_transcript.proofs.OnOks.{on_ok}
use Rattle.bus_transcript.proofs.transcriber.Transcriber.close_if.Goals as goal

pub returns-in-Some : goal.returns-in-Some
returns-in-Some c =
    let t : TranscriberValue = c.args.self.now in
    let d = c.args.reading.now in
    let v : TranscriberValue = record {
      bus_state = c.self.inside.bus;
      opened = c.self.inside.opened;
      processes = c.self.inside.processes;
      items = c.self.inside.items.items;
    } in
    let is : Some c.in-Some.opened ≡ t.opened = sym c.in-Some.is
    ∙ c.take.ensures.value ∙ (λ i. (c.self.view_is i).opened) in
    on_ok c.close_phase.result (λ h. h ∙ phase_apart v c.take.new.self c.in-Some.opened d c.args.free
    ∙ (λ i. closed_phase (c.self.view_is i) c.in-Some.opened d c.args.free) ∙ (λ i. closed_if t (is i) d c.args.free))
    c.close_phase.ensures
