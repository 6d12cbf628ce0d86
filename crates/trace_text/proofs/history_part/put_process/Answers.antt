use Rattle.std.proofs.Common.{sym, ◌++◌, ◌∷◌, [], decimal}
use Rattle.std.specs.Prelude.{if◌then◌else◌}
use Rattle.text_pages.proofs.Putting.{and_then, put_as}
use Rattle.trace_text.proofs.history_part.put_process.Goals as goal

pub returns-then-process : goal.returns-then-process
returns-then-process g c = put_as _ (and_then c.put_number.ensures c.put.ensures)
    (λ j. decimal c.args.process.command ++ (if (sym c.if-process.true) j then 83 ∷ [] else []))
