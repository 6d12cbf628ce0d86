-- What holds on the bus after the rows of a prompt trace: which device drives what, by the stage of the bus; and
-- nothing that is due lies in the past.
use Rattle.std.specs.Prelude.{ℕ, Bool, true, not, ◌&&◌, ◌||◌, ◌==◌, List, [], ◌∷◌, ◌+◌, ◌^◌, Option, Some, None}
use Rattle.std.specs.Prelude.{is_some, is_none, nat_le, if◌then◌else◌}
use Rattle.bus_rules.specs.bus_trace.specs.LineSet.{LineSet, none, same_set}
use Rattle.bus_rules.specs.bus_trace.specs.declared.Row.{Row}
use Rattle.bus_rules.specs.bus_trace.specs.declared.selection.Call.{Call}
use Rattle.bus_rules.specs.bus_trace.specs.declared.selection.Calling.{Calling}
use Rattle.bus_rules.specs.bus_trace.specs.declared.connection.Connection.{Connection}
use Rattle.bus_rules.specs.Connected.{has_no_target_line, has_no_initiator_line}
use Rattle.dialogue_model.specs.scenario.specs.Value.{ScenarioValue}
use Rattle.dialogue_model.specs.reaction_model.specs.declared.due.Due.{Due}
use Rattle.dialogue_model.specs.bus_lines.specs.declared.stage.Stage.{Stage}
use Rattle.dialogue_model.specs.bus_lines.specs.declared.stage.Stage.TheVariants.{OnFreeBus, InArbitration, InCalling}
use Rattle.dialogue_model.specs.bus_lines.specs.declared.stage.Stage.TheVariants.{InAnswer, InConnection, InReset}
use Rattle.dialogue_model.specs.reaction_model.specs.FreeBus.{contender_lines}
use Rattle.due_model.specs.RunState.{RunState, drives_of}
use Rattle.due_model.specs.Sights.{stage_of}
use Rattle.due_model.specs.Due.{due_by}
use Rattle.due_model.specs.RunSteps.{run_state}

abbrev pub each_device : (ℕ → Bool) → Bool
each_device f = f 0 && f 1 && f 2 && f 3 && f 4 && f 5 && f 6 && f 7

-- ---- which device drives what, by the stage of the bus

abbrev pub is_quiet : RunState → ℕ → Bool
is_quiet k dev = same_set (drives_of k dev) none

-- In an arbitration each device drives BSY and its ID, or nothing (6.1.2).
abbrev pub contends_or_not : RunState → ℕ → Bool
contends_or_not k dev = is_quiet k dev || same_set (drives_of k dev) (contender_lines dev)

-- The caller drives SEL, BSY until it releases it and again once a reselecting target resumes it, both IDs until it
-- withdraws them, and ATN or I/O (6.1.3, 6.1.4); the called device nothing but its answer.
abbrev pub caller_lines : ℕ → Calling → LineSet
caller_lines caller g = record none {
  data_bits = if is_some g.withdrawn then 0 else 2 ^ caller + 2 ^ g.called + 256;
  bsy = is_none g.released || is_some g.resumed;
  sel = true;
  atn = not g.reselects;
  io = g.reselects;
}

abbrev pub called_lines : Calling → LineSet
called_lines g = record none { bsy = is_some g.answered }

abbrev pub call_sides : RunState → Call → Option Calling → Bool
call_sides k c None = each_device (λ d.
    if d == c.caller then same_set (drives_of k d) (record (contender_lines d) { sel = true }) else contends_or_not k d)
call_sides k c (Some g) = each_device (λ d. if d == c.caller then same_set (drives_of k d) (caller_lines d g)
    else if d == g.called then same_set (drives_of k d) (called_lines g) else is_quiet k d)

-- In a connection each end drives lines of its own side, at most one of them data lines, and no third device a line
-- (6.1.5).
abbrev pub initiator_side : Connection → LineSet → Bool
initiator_side n s = has_no_target_line s && not s.sel && not s.rst && (n.reselected || not s.bsy)

abbrev pub target_side : LineSet → Bool
target_side s = has_no_initiator_line s && not s.sel && not s.rst && s.bsy

abbrev pub link_sides : RunState → Connection → Bool
link_sides k n = each_device (λ d. if d == n.initiator then initiator_side n (drives_of k d)
    else if d == n.target then target_side (drives_of k d) else is_quiet k d)
    && ((drives_of k n.initiator).data_bits == 0 || (drives_of k n.target).data_bits == 0)

-- Under RST a device that drives it drives nothing else (6.2.2).
abbrev pub sides_by : RunState → Stage → Bool
sides_by k (OnFreeBus free) = each_device (is_quiet k)
sides_by k (InArbitration a) = each_device (contends_or_not k)
sides_by k (InCalling c) = call_sides k c c.calling
sides_by k (InAnswer c g answered) = call_sides k c (Some g)
sides_by k (InConnection n) = link_sides k n
sides_by k (InReset since) =
    each_device (λ d. not (drives_of k d).rst || same_set (drives_of k d) (record none { rst = true }))

abbrev pub are_sides_kept : RunState → Bool
are_sides_kept k = sides_by k (stage_of k)

-- ---- nothing due lies in the past

abbrev pub is_ahead : ℕ → Option Due → Bool
is_ahead last None = true
is_ahead last (Some x) = nat_le last x.time

abbrev pub looks_ahead : ScenarioValue → RunState → Bool
looks_ahead s k = each_device (λ d. is_ahead k.last (due_by s k d))

-- ---- both

abbrev pub is_sound : ScenarioValue → RunState → Bool
is_sound s k = are_sides_kept k && looks_ahead s k

-- After all rows, and after each of them.
abbrev pub sound : ScenarioValue → List Row → Bool
sound s [] = is_sound s (run_state s [])
sound s (row ∷ rows) = sound s rows && is_sound s (run_state s (row ∷ rows))
