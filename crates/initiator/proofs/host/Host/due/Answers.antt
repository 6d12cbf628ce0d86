use Rattle.std.proofs.Common.{ℕ, ◌^◌, ◌∙◌, sym, subst, Option, None}
use Rattle.bus_lines.specs.Timely.{IsBefore}
use Rattle.due_model.specs.Next.{due}
use Rattle.initiator.specs.Hosts.{HostValue, IsHostAfter, IsNeverCalled}
use Rattle.initiator.specs.States.{InitiatorState, IsInitiatorOf, sending_by}
use Rattle.initiator.proofs.Hosts.{host_sends}
use Rattle.initiator.proofs.host.Host.due.Goals as goal

pub returns : goal.returns
returns c = λ s rows f o d never h e.
    let g = subst (λ (v : HostValue). IsHostAfter s rows v) (sym c.self.view_is) h in
    let away = subst (λ (v : HostValue). IsNeverCalled rows v.def.dev) (sym c.self.view_is) never in
    let sends = host_sends s rows _ (λ n k x. c.scenarios_fit_the_bus.ensures.commands s n k f x)
    (c.kept_is_plain.ensures.rows s rows d) d g in
    let bound = subst (λ (t : Option ℕ). IsBefore (2 ^ 63) t) (sym (c.since.ensures.trace s rows g.intent_is))
    (c.scenarios_fit_the_bus.ensures.times s rows c.self.inside.intent.dev None f).0 in
    let since = c.bounded.ensures.same bound ∙ c.since.ensures.value in
    let knows = c.initiators_are_their_parts.ensures s rows c.self.inside.def c.self.inside.itself c.self.inside.intent
    c.self.inside.speech _ d g.line.below g.itself_dev g.intent_dev g.itself_is g.intent_is g.speech_is sends in
    let known = subst (λ (i : InitiatorState). IsInitiatorOf s rows c.self.inside.def i) (λ i. record {
      own = sym c.own.ensures i;
      reset = sym c.reset.ensures i;
      since = sym since i;
      callee = sym c.callee.ensures.value i;
      speech = c.self.inside.speech;
      sending = sending_by c.self.inside.bytes c.self.inside.transfers;
    }) knows in
    c.initiator_next.ensures.due s rows o (record {
      below = g.line.below;
      host_is = g.line.host_is;
      is_one = g.line.is_one;
      no_target = g.line.no_target;
    }) d (c.initiators_have_no_unit.ensures.no_target s rows c.self.inside.def.dev g.line.no_unit away) known e
    ∙ (λ i. let v : HostValue = c.self.view_is i in due s rows v.def.dev)
