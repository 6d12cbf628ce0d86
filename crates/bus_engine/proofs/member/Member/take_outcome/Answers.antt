use Rattle.std.proofs.Common.{◌∙◌}
use Rattle.std.proofs.lemmas.Bool.{eq-eqb}
use Rattle.due_model.specs.RunSteps.{run_state}
use Rattle.initiator.specs.initiator_books.specs.Endings.{end_at}
use Rattle.initiator.specs.initiator_books.specs.Openings.{mine_at}
use Rattle.initiator.specs.Outcomes.{is_sense_over}
use Rattle.bus_engine.proofs.HeldAnswers.{outcome_is}
use Rattle.bus_engine.proofs.Overs.{initiator_over, target_over, taken_is_answered, host_goes_on, no_initiator}
use Rattle.bus_engine.proofs.member.Member.take_outcome.Goals as goal

pub returns-in-Initiator-clause-told : goal.returns-in-Initiator-clause-told
returns-in-Initiator-clause-told c = λ s rows dev d h e own is undone answers.
    let over = initiator_over s rows dev c.args.number c.args.self.now c.in-Initiator.host c.in-Initiator.is h in
    let known = taken_is_answered s rows dev c.args.number d c.in-Initiator.host over e own undone answers in
    c.take_outcome.ensures.told s (run_state s rows).story
    (over.endings_are.ends c.args.number d e (eq-eqb d.host dev own)) known.replies
    ∙ outcome_is s (run_state s rows).story c.args.number (end_at c.in-Initiator.host.endings c.args.number)
    (is_sense_over (mine_at c.in-Initiator.host.intent.wish.book.mines c.args.number)) known.settled

pub returns-in-Initiator-clause-over : goal.returns-in-Initiator-clause-over
returns-in-Initiator-clause-over c = λ s rows dev first le h. host_goes_on s rows
    dev first c.args.number _ c.in-Initiator.host _ c.take_outcome.ensures.rest le
    (initiator_over s rows dev first c.args.self.now c.in-Initiator.host c.in-Initiator.is h)

pub returns-in-Target-clause-told : goal.returns-in-Target-clause-told
returns-in-Target-clause-told c = λ s rows dev d h e own is undone answers.
    absurd (no_initiator s rows dev _ (target_over s rows dev c.args.number c.args.self.now _ c.in-Target.is h) is)
