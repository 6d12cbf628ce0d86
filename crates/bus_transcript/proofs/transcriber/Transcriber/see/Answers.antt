use Rattle.std.proofs.Common.{◌≡◌, ◌∙◌, sym, true}
use Rattle.bus_transcript.specs.Rows.{TranscriberValue, after_row}
use Rattle.bus_transcript.specs.Still.{is_still, still_bus}
use Rattle.story_model.specs.BusState.{change_by}
use Rattle.bus_transcript.proofs.StillRows.{still_row}
use Rattle.bus_transcript.proofs.transcriber.Transcriber.see.Goals as goal

pub returns-then-is_still : goal.returns-then-is_still
returns-then-is_still c =
    let row = c.args.row.now in
    let t : TranscriberValue = record {
      bus_state = c.self.inside.bus;
      opened = c.self.inside.opened;
      processes = c.self.inside.processes;
      items = c.self.inside.items.items;
    } in
    let is : is_still t.bus_state (change_by t.bus_state row) row.kind ≡ true =
    (λ i. is_still t.bus_state (sym c.change-change.ensures i) row.kind)
    ∙ sym c.is_still.ensures ∙ c.if-is_still.true in
    (λ i. record t { bus_state = c.step_still.ensures i })
    ∙ (λ i. record t { bus_state = still_bus t.bus_state row (c.change-change.ensures i) }) ∙ still_row t row is
    ∙ (λ i. after_row (c.self.view_is i) row)
