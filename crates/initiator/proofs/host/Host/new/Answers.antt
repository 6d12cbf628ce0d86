use Rattle.std.proofs.Common.{ℕ, ◌≡◌, ◌<◌, ◌≤◌, ◌∙◌, sym, ap, arith}
use Rattle.std.specs.Prelude.{◌==◌}
use Rattle.std.specs.List.{find}
use Rattle.std.proofs.lemmas.Result.{IfOk-weaker}
use Rattle.scenario.specs.declared.value.HostDef.{HostDef}
use Rattle.due_model.specs.Defs.{host_of}
use Rattle.initiator.specs.Hosts.{HostValue}
use Rattle.initiator.proofs.host.Host.new.Goals as goal

below_255 : (n : ℕ) → n ≤ 16 → n < 255
below_255 n h = omega (arith, h)

pub of_line-requires-clause-below : goal.of_line-requires-clause-below
of_line-requires-clause-below c =
    (c.scenarios_fit_the_bus.ensures.found_hosts c.args.scenario.now c.args.dev c.in-Some.def
    (c.scenarios_fit_the_bus.ensures.lines c.args.scenario.now c.requires.lawful)
    ((λ i. host_of (sym c.scenario.view_is i) c.args.dev)
    ∙ (λ i. find (λ (h : HostDef). h.dev == c.args.dev) (sym c.as_slice.ensures.value i))
    ∙ sym c.host_line.ensures
    ∙ c.in-Some.is)).0.below

pub of_line-requires-clause-latency : goal.of_line-requires-clause-latency
of_line-requires-clause-latency c =
    (c.scenarios_fit_the_bus.ensures.found_hosts c.args.scenario.now c.args.dev c.in-Some.def
    (c.scenarios_fit_the_bus.ensures.lines c.args.scenario.now c.requires.lawful)
    ((λ i. host_of (sym c.scenario.view_is i) c.args.dev)
    ∙ (λ i. find (λ (h : HostDef). h.dev == c.args.dev) (sym c.as_slice.ensures.value i))
    ∙ sym c.host_line.ensures
    ∙ c.in-Some.is)).0.latency

pub of_line-requires-clause-few : goal.of_line-requires-clause-few
of_line-requires-clause-few c =
    let l = c.scenarios_fit_the_bus.ensures.found_hosts c.args.scenario.now c.args.dev c.in-Some.def
    (c.scenarios_fit_the_bus.ensures.lines c.args.scenario.now c.requires.lawful)
    ((λ i. host_of (sym c.scenario.view_is i) c.args.dev)
    ∙ (λ i. find (λ (h : HostDef). h.dev == c.args.dev) (sym c.as_slice.ensures.value i))
    ∙ sym c.host_line.ensures
    ∙ c.in-Some.is) in
    below_255 c.in-Some.def.retries l.0.few

pub returns-clause-named : goal.returns-clause-named
returns-clause-named c =
    let l = c.scenarios_fit_the_bus.ensures.found_hosts c.args.scenario.now c.args.dev c.in-Some.def
    (c.scenarios_fit_the_bus.ensures.lines c.args.scenario.now c.requires.lawful)
    ((λ i. host_of (sym c.scenario.view_is i) c.args.dev)
    ∙ (λ i. find (λ (h : HostDef). h.dev == c.args.dev) (sym c.as_slice.ensures.value i))
    ∙ sym c.host_line.ensures ∙ c.in-Some.is) in
    IfOk-weaker c.of_line.result (λ (made : HostValue). made.def ≡ c.in-Some.def) (λ (made : HostValue). made.def.dev
    ≡ c.args.dev) (λ made e. ap (λ (h : HostDef). h.dev) e ∙ l.1) c.of_line.ensures.named

pub returns-clause-trace : goal.returns-clause-trace
returns-clause-trace c =
    let l = c.scenarios_fit_the_bus.ensures.found_hosts c.args.scenario.now c.args.dev c.in-Some.def
    (c.scenarios_fit_the_bus.ensures.lines c.args.scenario.now c.requires.lawful)
    ((λ i. host_of (sym c.scenario.view_is i) c.args.dev)
    ∙ (λ i. find (λ (h : HostDef). h.dev == c.args.dev) (sym c.as_slice.ensures.value i))
    ∙ sym c.host_line.ensures
    ∙ c.in-Some.is) in
    c.of_line.ensures.trace l.0
