use Rattle.std.proofs.Common.{◌∙◌}
use Rattle.array_model.specs.Processes.{process_of}
use Rattle.due_model.specs.RunSteps.{run_state}
use Rattle.target_course.specs.Gathered.{bytes_of, gathering_at}
use Rattle.target_course.proofs.GatheredAll.{whole_bytes}
use Rattle.target_course.proofs.GatheredRows.{bytes_sent}
use Rattle.target_course.proofs.ProgressRows.{named_so}
use Rattle.target_course.proofs.gathered.Gathered.bytes.Goals as goal

pub returns-clause-sent : goal.returns-clause-sent
returns-clause-sent c = λ s p g e. bytes_sent s (gathering_at c.args.self.now.units c.args.unit) c.args.id c.args.count
    p c.held.result.now (g.each c.args.unit c.requires.unit) e c.held.ensures

pub returns-clause-whole : goal.returns-clause-whole
returns-clause-whole c = λ s rows p n g h r t unit id count l all.
    whole_bytes s rows c.args.self.now p n c.held.result.now h r t l all
    (c.held.ensures ∙ (λ i. bytes_of (gathering_at c.args.self.now.units (unit i)) (id i) (count i)))
    (returns-clause-sent c s p g ((λ i. process_of s (id i)) ∙ named_so s (run_state s rows).served p r.served))
