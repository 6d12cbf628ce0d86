use Rattle.transcript_laws.proofs.Processes.Facts.{prompt_tells}
use Rattle.transcript_laws.proofs.laws.transcripts_follow_prompt_traces.Goals as goal

pub returns : goal.returns
returns c = λ s rows o prompt. prompt_tells s rows o prompt
