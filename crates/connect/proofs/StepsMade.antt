-- What a step makes in the state that the rows show is a step of the device.
use Rattle.std.proofs.Common.{ℕ, List, Option, refl}
use Rattle.bus_trace.specs.declared.Row.{Row}
use Rattle.bus_lines.specs.Stage.{stage}
use Rattle.bus_trace.specs.Trace.{bus}
use Rattle.reaction_model.specs.Ends.{bsy_release}
use Rattle.reaction_model.specs.Sight.{sight}
use Rattle.connect.specs.declared.states.Link.{Link}
use Rattle.connect.specs.Links.{want_of}
use Rattle.connect.specs.Steps.{link_in, me_in, step_from, IsStepOf}
use Rattle.connect.proofs.FirstBytes.{lines_by_first, time_by_first}

pub step_made : (rows : List Row) (link : Link) (now : ℕ) (flip : Option ℕ)
    → IsStepOf rows link now flip (step_from rows (link_in rows link) now flip)
step_made rows link now flip =
    let w = want_of (link_in rows link) in
    let me = me_in rows link in
    record {
      drives = λ first. lines_by_first (stage rows) (bus rows) (sight rows).ages.bsy (sight rows).ages.sel me w flip
          (bsy_release (sight rows) me) now w.first first;
      wake = λ first. time_by_first (stage rows) (bus rows) (sight rows).ages.bsy (sight rows).ages.sel me w flip
          (bsy_release (sight rows) me) now w.first first;
      sampled = refl;
      next = refl;
    }
