use Rattle.book_laws.proofs.Messages.Rules.{row_known, row_left, row_opens, row_keeps, end_keeps}
use Rattle.book_laws.proofs.laws.message_phases_are_whole.Goals as goal

-- src/laws.rt
pub returns-clause-known : goal.returns-clause-known
returns-clause-known c =
    λ s rows row n change devices below books goes. row_known s rows row n change devices below books goes

-- src/laws.rt
pub returns-clause-left : goal.returns-clause-left
returns-clause-left c =
    λ s rows row n change devices below books goes. row_left s rows row n change devices below books goes

-- src/laws.rt
pub returns-clause-opens : goal.returns-clause-opens
returns-clause-opens c =
    λ s rows row n change devices below books goes. row_opens s rows row n change devices below books goes

-- src/laws.rt
pub returns-clause-keeps : goal.returns-clause-keeps
returns-clause-keeps c = λ s rows row n change devices below books goes settles. row_keeps s rows row n change devices
    below books goes settles

-- src/laws.rt
pub returns-clause-ends : goal.returns-clause-ends
returns-clause-ends c = λ s rows row n devices below ends. end_keeps s rows row n devices below ends
