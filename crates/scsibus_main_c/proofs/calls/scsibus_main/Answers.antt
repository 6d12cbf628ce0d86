-- Where there was no memory the text is the line that says so.
use Rattle.std.proofs.Common.{◌∙◌, refl, inr}
use Rattle.bus_cli.specs.Lines.{memory_line}
use Rattle.bus_cli.specs.declared.status.Status.TheVariants as statuses
use Rattle.scsibus_main_c.proofs.calls.scsibus_main.Goals as goal

pub returns-in-None : goal.returns-in-None
returns-in-None c = record {
  status = statuses.Memory;
  text = memory_line;
  answers = inr (refl, refl);
  code = c.from-in-None.ensures ∙ c.code-in-None.ensures;
  length = refl;
  shown = c.show-in-None.ensures;
}
