use Rattle.transcript_laws.proofs.Standing.Facts.{fit_tells}
use Rattle.transcript_laws.proofs.laws.transcripts_follow_histories.Goals as goal

pub returns : goal.returns
returns c = λ s rows fits fewer. fit_tells s rows fits fewer
