use Rattle.std.proofs.Common.{◌++◌}
use Rattle.trace_text.specs.TapeText.{position_text, objects_text}
use Rattle.text_pages.proofs.Putting.{and_then, put_as}
use Rattle.trace_text.proofs.tapes_part.put_tape.Goals as goal

pub returns : goal.returns
returns g c = put_as _ (and_then c.put_position.ensures c.put_objects.ensures)
    (λ j. position_text c.args.target c.args.unit (c.position-position.ensures.exact j)
    ++ objects_text c.args.target c.args.unit 0 c.args.tape.now.tape.reel.objects)
