use Rattle.std.proofs.Common.{ℕ, ◌∷◌, ◌∙◌, sym, subst}
use Rattle.bus_trace.specs.Terms.{connection}
use Rattle.story_model.specs.BusState.{row_reading}
use Rattle.due_model.specs.RunSteps.{run_state}
use Rattle.due_model.specs.Telling.{initiator_events}
use Rattle.initiator.specs.Hosts.{HostValue, IsHostAfter}
use Rattle.initiator_books.specs.OwnLinks.{own_link}
use Rattle.initiator.specs.States.{IsOwnConnection}
use Rattle.initiator.proofs.host.Host.completion.Goals as goal

pub returns-clause-rows : goal.returns-clause-rows
returns-clause-rows c = λ s rows row o d h. c.completion.ensures.rows s rows row d (c.hearing.ensures (row ∷ rows) o)
    (subst (λ (v : HostValue). IsHostAfter s rows v) (sym c.self.view_is) h).transfers_are
    ∙ (λ i. initiator_events (run_state s rows)
    (own_link ((subst (λ (v : HostValue). IsHostAfter s rows v) (sym c.self.view_is) h).transfers_dev i)
    (connection rows) (run_state s rows).story.link) (row_reading (run_state s rows).story.bus_state row))
    ∙ (λ i. let v : HostValue = c.self.view_is i in
    initiator_events (run_state s rows) (own_link v.def.dev (connection rows) (run_state s rows).story.link)
    (row_reading (run_state s rows).story.bus_state row))

pub returns-clause-trace : goal.returns-clause-trace
returns-clause-trace c = λ s rows row n o d h own.
    let g = subst (λ (v : HostValue). IsHostAfter s rows v) (sym c.self.view_is) h in
    let mine = subst (λ (v : HostValue). IsOwnConnection rows v.def.dev n) (sym c.self.view_is) own in
    c.completion.ensures.trace s rows row n d (c.hearing.ensures (row ∷ rows) o) g.transfers_are
    (subst (λ (k : ℕ). IsOwnConnection rows k n) (sym g.transfers_dev) mine)
