use Rattle.text_pages.proofs.Putting.{and_then}
use Rattle.trace_text.proofs.history_part.put_event.Goals as goal

pub returns : goal.returns
returns g c = and_then c.put_event_words.ensures c.put.ensures
