use Rattle.std.proofs.Common.{ℕ, ◌∷◌, ◌∙◌, sym, subst}
use Rattle.initiator.specs.Hosts.{HostValue, IsHostAfter}
use Rattle.initiator_books.specs.Intents.{aims_at_process}
use Rattle.initiator.specs.Received.{AreReceived}
use Rattle.initiator.specs.Speeches.{IsOpeningOf}
use Rattle.initiator.proofs.host.Host.hear_row.Goals as goal
use Rattle.bus_base.proofs.Tests.{and_second}

pub returns-clause-trace : goal.returns-clause-trace
returns-clause-trace c = λ s rows row f o d shown h.
    let g = subst (λ (v : HostValue). IsHostAfter s rows v) (sym c.self.view_is) h in
    let v = c.view-view.ensures.trace (row ∷ rows) o in
    let heard = c.hearing-hearing.ensures (row ∷ rows) o in
    record {
      negotiations_dev = c.see-2.ensures.dev ∙ g.negotiations_dev;
      transfers_dev = c.see_transfers.ensures.dev ∙ g.transfers_dev;
      negotiations_are = c.see-2.ensures.trace s rows row d (c.connection_before-4.ensures rows row v)
          (c.connection-5.ensures.trace (row ∷ rows) v) (c.is_for_process-process.ensures.trace s rows g.intent_is
          ∙ (λ i. aims_at_process s rows ((g.intent_dev ∙ sym g.negotiations_dev) i))) shown g.negotiations_are;
      speech_is = c.see.ensures.trace s rows row d g.line.host_is heard
          (c.connection_before-2.ensures rows row v) (c.connection-2.ensures.trace (row ∷ rows) v)
          (subst (λ (z : HostValue). IsOpeningOf s rows row z.def.dev c.opening_by-opening.result.items)
          (sym c.self.view_is) (c.opening_by-opening.ensures s rows row d (c.scenarios_fit_the_bus.ensures.units s f) h
          (c.connection_before.ensures rows row v) (c.connection.ensures.trace (row ∷ rows) v))) g.speech_is;
      transfers_are = c.see_transfers.ensures.trace s rows row d heard
          (c.connection_before-3.ensures rows row v) (c.connection-4.ensures.trace (row ∷ rows) v)
          (g.intent_dev ∙ sym g.transfers_dev) g.intent_is g.transfers_are;
      received_is = λ u. subst (λ (n : ℕ). AreReceived s (row ∷ rows) n c.see_received.new.received) g.transfers_dev
          (c.see_received.ensures s rows row d heard (c.connection-3.ensures.trace (row ∷ rows) v) g.transfers_are u
          (subst (λ (n : ℕ). AreReceived s rows n c.self.inside.received) (sym g.transfers_dev)
          (g.received_is (and_second _ _ u))));
    }
