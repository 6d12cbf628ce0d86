use Rattle.book_laws.proofs.Reactions.{answers_next, answers_own, offers_next, out_over, command_over, leaves_by}
use Rattle.book_laws.proofs.laws.bytes_that_are_due_are_next.Goals as goal

-- src/laws.rt
pub returns-clause-says : goal.returns-clause-says
returns-clause-says c = λ s k n change before h. answers_next s k n change before h

-- src/laws.rt
pub returns-clause-sends : goal.returns-clause-sends
returns-clause-sends c = λ s k n change p before h here now out. answers_own s k n change p before h here now out

-- src/laws.rt
pub returns-clause-gives : goal.returns-clause-gives
returns-clause-gives c = λ s k n change before h. offers_next s k n change before h

-- src/laws.rt
pub returns-clause-out : goal.returns-clause-out
returns-clause-out c = λ s k n out over. out_over s k n out over

-- src/laws.rt
pub returns-clause-command : goal.returns-clause-command
returns-clause-command c = λ s k n p command over served struck. command_over s k n p command over served struck

-- src/laws.rt
pub returns-clause-leaves : goal.returns-clause-leaves
returns-clause-leaves c =
    λ s k n gives phase over message named group. leaves_by s k n gives phase over message named group
