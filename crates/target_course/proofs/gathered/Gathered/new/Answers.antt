use Rattle.std.proofs.Common.{◌≡◌, [], sym, subst}
use Rattle.target_course.specs.Gathered.{GatheredValue, nothing_gathered, IsGatheredOf, AreAllGathered}
use Rattle.target_course.proofs.GatheredAll.{all_gathered_start}
use Rattle.target_course.proofs.GatheredRows.{gathered_starts}
use Rattle.target_units.proofs.Starts.{if_ok}
use Rattle.target_course.proofs.gathered.Gathered.new.Goals as goal

pub returns-clause-trace : goal.returns-clause-trace
returns-clause-trace c = if_ok (λ made. made ≡ nothing_gathered c.args.scenario.now c.args.dev)
    (λ made. IsGatheredOf c.args.scenario.now made)
    (λ made e. subst (λ (z : GatheredValue). IsGatheredOf c.args.scenario.now z) (sym e)
    (gathered_starts c.args.scenario.now c.args.dev)) c.empty.result c.empty.ensures

pub returns-clause-whole : goal.returns-clause-whole
returns-clause-whole c = if_ok (λ made. made ≡ nothing_gathered c.args.scenario.now c.args.dev)
    (λ made. AreAllGathered c.args.scenario.now [] made)
    (λ made e. subst (λ (z : GatheredValue). AreAllGathered c.args.scenario.now [] z) (sym e)
    (all_gathered_start c.args.scenario.now c.args.dev)) c.empty.result c.empty.ensures
