-- A target that answers selections and does nothing more: it raises BSY a bus settle delay after the initiator released
-- BSY (6.1.3), where no fault struck the IDs.
use Rattle.std.specs.Prelude.{ℕ, ◌+◌, true, not, ◌&&◌, ◌==◌, Option, Some, None, if◌then◌else◌}
use Rattle.bus_trace.specs.LineSet.{none}
use Rattle.bus_trace.specs.declared.rows.Row.{Row}
use Rattle.bus_trace.specs.declared.rows.Kind.TheVariants.{Drives}
use Rattle.bus_trace.specs.declared.selection.Call.{Call}
use Rattle.bus_trace.specs.declared.selection.Calling.{Calling}
use Rattle.bus_trace.specs.declared.delays.TheConstants.{BUS_SETTLE_DELAY}
use Rattle.bus_trace.specs.Terms.{call}
use Rattle.mixed_model.specs.Playing.{Doing}

abbrev pub answer_at : ℕ → Option ℕ → Option ℕ → Option Row
answer_at dev (Some released) None =
    Some (record { time = released + BUS_SETTLE_DELAY; dev = dev; kind = Drives (record none { bsy = true }) })
answer_at dev (Some released) (Some answered) = None
answer_at dev None answered = None

abbrev pub answer_to : ℕ → Option Calling → Option Row
answer_to dev None = None
answer_to dev (Some k) =
    if k.called == dev && not k.reselects && not k.struck then answer_at dev k.released k.answered else None

abbrev pub answer_in : ℕ → Option Call → Option Row
answer_in dev None = None
answer_in dev (Some k) = answer_to dev k.calling

abbrev pub answering : ℕ → Doing
answering dev rows = answer_in dev (call rows)
