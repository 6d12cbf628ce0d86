use Rattle.std.proofs.Common.{append_assoc, ◌++◌, ◌∷◌, []}
use Rattle.std.specs.Prelude.{codes}
use Rattle.bus_transcript.specs.Text.{name_text, status_text}
use Rattle.text_pages.proofs.Putting.{and_then, put_as}
use Rattle.bus_transcript.proofs.printing.put_end.Goals as goal

pub returns : goal.returns
returns g c = put_as _ (and_then c.put_named.ensures (and_then c.put.ensures c.put_status.ensures))
    (append_assoc (codes "end ") (name_text c.args.name) (32 ∷ [] ++ status_text c.args.status))
