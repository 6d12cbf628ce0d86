use Rattle.std.proofs.Common.{drop}
use Rattle.trace_text.specs.TapeText.{objects_text}
use Rattle.text_pages.specs.Pages.{place}
use Rattle.text_pages.proofs.Putting.{IsOn}
use Rattle.trace_text.proofs.tapes_part.put_objects.Given as goal

abbrev pub invariant-loop-n : goal.invariant-loop-n
invariant-loop-n g l = IsOn (place (g.K.Sink.written l.initial.out) (g.K.Sink.faults l.initial.out) l.initial.page)
    (place (g.K.Sink.written l.out) (g.K.Sink.faults l.out) l.page)
    (objects_text l.target l.unit 0 l.tape.tape.reel.objects)
    (objects_text l.target l.unit l.n (drop l.n l.tape.tape.reel.objects))
