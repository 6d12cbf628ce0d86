use Rattle.std.proofs.Common.{◌≡◌, ◌∙◌, sym, ap}
use Rattle.std.specs.Prelude.{◌==◌}
use Rattle.std.specs.List.{find}
use Rattle.std.proofs.lemmas.Result.{IfOk-weaker}
use Rattle.scenario.specs.declared.value.TargetDef.{TargetDef}
use Rattle.due_model.specs.Defs.{target_def_of}
use Rattle.disk_target.specs.Targets.{TargetValue}
use Rattle.disk_target.proofs.target.Target.new.Goals as goal

pub of_line-requires-clause-below : goal.of_line-requires-clause-below
of_line-requires-clause-below c =
    (c.scenarios_fit_the_bus.ensures.found_targets c.args.scenario.now c.args.dev c.in-Some.def
    (c.scenarios_fit_the_bus.ensures.lines c.args.scenario.now c.requires.lawful)
    ((λ i. target_def_of (sym c.scenario.view_is i) c.args.dev)
    ∙ (λ i. find (λ (t : TargetDef). t.dev == c.args.dev) (sym c.as_slice.ensures.value i))
    ∙ sym c.target_line.ensures
    ∙ c.in-Some.is)).0.below

pub of_line-requires-clause-latency : goal.of_line-requires-clause-latency
of_line-requires-clause-latency c =
    (c.scenarios_fit_the_bus.ensures.found_targets c.args.scenario.now c.args.dev c.in-Some.def
    (c.scenarios_fit_the_bus.ensures.lines c.args.scenario.now c.requires.lawful)
    ((λ i. target_def_of (sym c.scenario.view_is i) c.args.dev)
    ∙ (λ i. find (λ (t : TargetDef). t.dev == c.args.dev) (sym c.as_slice.ensures.value i))
    ∙ sym c.target_line.ensures
    ∙ c.in-Some.is)).0.latency

pub returns-clause-named : goal.returns-clause-named
returns-clause-named c =
    let l = c.scenarios_fit_the_bus.ensures.found_targets c.args.scenario.now c.args.dev c.in-Some.def
    (c.scenarios_fit_the_bus.ensures.lines c.args.scenario.now c.requires.lawful)
    ((λ i. target_def_of (sym c.scenario.view_is i) c.args.dev)
    ∙ (λ i. find (λ (t : TargetDef). t.dev == c.args.dev) (sym c.as_slice.ensures.value i))
    ∙ sym c.target_line.ensures ∙ c.in-Some.is) in
    IfOk-weaker c.of_line.result (λ (made : TargetValue). made.def ≡ c.in-Some.def)
    (λ (made : TargetValue). made.def.dev ≡ c.args.dev)
    (λ made e. ap (λ (t : TargetDef). t.dev) e ∙ l.1) c.of_line.ensures.named

pub returns-clause-trace : goal.returns-clause-trace
returns-clause-trace c =
    let l = c.scenarios_fit_the_bus.ensures.found_targets c.args.scenario.now c.args.dev c.in-Some.def
    (c.scenarios_fit_the_bus.ensures.lines c.args.scenario.now c.requires.lawful)
    ((λ i. target_def_of (sym c.scenario.view_is i) c.args.dev)
    ∙ (λ i. find (λ (t : TargetDef). t.dev == c.args.dev) (sym c.as_slice.ensures.value i))
    ∙ sym c.target_line.ensures
    ∙ c.in-Some.is) in
    c.of_line.ensures.trace (c.scenarios_fit_the_bus.ensures.lines c.args.scenario.now c.requires.lawful) l.0
