use Rattle.bus_run.proofs.Seams.{tied, tied_before, ends_are, not_called, not_calling}
use Rattle.bus_run.proofs.laws.rows_tie_devices.Goals as goal

pub returns-clause-faithful : goal.returns-clause-faithful
returns-clause-faithful c = λ s rows e. (tied s rows e).faithful_are

pub returns-clause-telling : goal.returns-clause-telling
returns-clause-telling c = λ s rows e. (tied s rows e).telling_are

pub returns-clause-allowed : goal.returns-clause-allowed
returns-clause-allowed c = λ s rows e. (tied s rows e).allowed_are

pub returns-clause-heard : goal.returns-clause-heard
returns-clause-heard c = λ s rows e. (tied s rows e).heard_are

pub returns-clause-written : goal.returns-clause-written
returns-clause-written c = λ s rows e. (tied s rows e).written_are

pub returns-clause-attended : goal.returns-clause-attended
returns-clause-attended c = λ s rows e. (tied s rows e).attended_are

pub returns-clause-before : goal.returns-clause-before
returns-clause-before c = λ s rows row e. tied_before s rows row e

pub returns-clause-initiators : goal.returns-clause-initiators
returns-clause-initiators c = λ s rows n e k. (ends_are s rows n e k).0

pub returns-clause-targets : goal.returns-clause-targets
returns-clause-targets c = λ s rows n e k. (ends_are s rows n e k).1

pub returns-clause-not_called : goal.returns-clause-not_called
returns-clause-not_called c = λ s rows h n l e k. not_called s rows h n l e k

pub returns-clause-not_calling : goal.returns-clause-not_calling
returns-clause-not_calling c = λ s rows t n l e k. not_calling s rows t n l e k
