use Rattle.book_laws.proofs.Failures.Struck.{strikes_are}
use Rattle.book_laws.proofs.causes.failures_have_strikes.Goals as goal

pub returns : goal.returns
returns c = λ s rows id code h. strikes_are s rows id code h
