-- What is still to come of the scenario's lines, in rows: of its commands with their automatic REQUEST SENSE, its
-- aborts, resets and faults.
use Rattle.std.specs.Prelude.{ℕ, ◌+◌, ◌-◌, ◌*◌, Bool, true, false, not, ◌&&◌, ◌==◌, List, [], ◌∷◌, length, Option, Some}
use Rattle.std.specs.Prelude.{None, nat_lt, if◌then◌else◌}
use Rattle.std.specs.List.{list_any}
use Rattle.due_model.specs.cdb_codec.specs.Cdb.{command_of}
use Rattle.due_model.specs.bus_trace.specs.Phases.{is_data}
use Rattle.due_model.specs.scenario.specs.declared.value.AbortDef.{AbortDef}
use Rattle.due_model.specs.scenario.specs.declared.value.CmdDef.{CmdDef}
use Rattle.due_model.specs.scenario.specs.declared.value.Policy.{Policy}
use Rattle.due_model.specs.scenario.specs.declared.value.Policy.TheVariants as policies
use Rattle.due_model.specs.scenario.specs.declared.value.ResetDef.{ResetDef}
use Rattle.due_model.specs.scenario.specs.declared.value.UnitDef.{UnitDef}
use Rattle.due_model.specs.scenario.specs.Lookups.{is_tape, unit_of}
use Rattle.due_model.specs.scenario.specs.Needs.{need_of}
use Rattle.due_model.specs.scenario.specs.Value.{ScenarioValue}
use Rattle.due_model.specs.array_model.specs.Execution.{range_of}
use Rattle.due_model.specs.story_model.specs.Budget.{data_runs}
use Rattle.due_model.specs.story_model.specs.Items.{Item, Sent, abort, command_id, command_item, count_item, has_item}
use Rattle.due_model.specs.story_model.specs.Items.{is_done, same_item, sense_item}
use Rattle.due_model.specs.story_model.specs.TraceHistory.{retries_of}
use Rattle.due_model.specs.dialogue_model.specs.Arrivals.{policy_of}
use Rattle.due_model.specs.Defs.{target_def_of}
use Rattle.due_model.specs.Due.{is_reset_past}
use Rattle.due_model.specs.LastingState.{progress_in}
use Rattle.due_model.specs.Own.{Own, own_at}
use Rattle.due_model.specs.RunState.{RunState, bus_of, drives_of}
use Rattle.measure_laws.specs.Weights.{for_byte, for_calling, for_fault, for_item, for_reselection, for_reset}
use Rattle.due_model.specs.cdb_codec.specs.declared.command.Command.{Command}
use Rattle.due_model.specs.cdb_codec.specs.declared.command.CdbFault.{CdbFault}
use Rattle.std.specs.Prelude.{Result, Ok, Err}

-- ---- the bytes of the data runs that are left after so many, by the policy of the target: with NOSAVE the first run
-- may be made twice, once cut short and once from the beginning

abbrev pub cut_bytes : Policy → ℕ → ℕ → ℕ → ℕ
cut_bytes policies.Never size need made = if made == 0 then need else 0
cut_bytes policies.Command size need made = if made == 0 then need else 0
cut_bytes (policies.Burst most) size need made = need - made * (most * size)
cut_bytes (policies.NoSave most) size need made = if made == 0 then 2 * need else if made == 1 then need else 0

-- Only reads and writes of blocks are cut.
abbrev pub bytes_over : Policy → Option (ℕ × ℕ) → ℕ → ℕ → ℕ → ℕ
bytes_over policy None size need made = if made == 0 then need else 0
bytes_over policy (Some range) size need made = cut_bytes policy size need made

abbrev pub range_if : Result Command CdbFault → Option (ℕ × ℕ)
range_if (Ok k) = range_of k
range_if (Err fault) = None

-- None at a tape.
abbrev pub range_at : ScenarioValue → CmdDef → Option (ℕ × ℕ)
range_at s c = if is_tape s c.target c.unit then None else range_if (command_of c.cdb)

abbrev pub size_if : Option UnitDef → ℕ
size_if None = 0
size_if (Some u) = u.size

abbrev pub bytes_after : ScenarioValue → CmdDef → ℕ → ℕ
bytes_after s c made = bytes_over (policy_of (target_def_of s c.target)) (range_at s c)
    (size_if (unit_of s c.target c.unit)) (need_of s c) made

-- ---- a command, the n-th

abbrev pub serves_item : Option Item → Item → Bool
serves_item None item = false
serves_item (Some i) item = same_item i item

-- A data phase is counted by the connection.
abbrev pub is_in_data : RunState → Bool
is_in_data k = k.exchange.begun && is_data (bus_of k)

abbrev pub one_where : Bool → ℕ
one_where true = 1
one_where false = 0

-- It is not sent yet: a calling for each time that it may still be tried, the connection in which it is sent, that of
-- its REQUEST SENSE, and all its runs, each with a reselection, and one for STATUS.
abbrev pub unsent_left : ScenarioValue → Sent → ℕ → CmdDef → ℕ
unsent_left s b n c =
    for_calling * (retries_of s.hosts c.host + 1 - count_item b.tries (command_item n))
    + (2 * for_item + for_reselection * (data_runs s c + 1) + for_byte * bytes_after s c 0)

-- It is open, and its target serves it now, or not; it has made so many of its runs. In a data phase the present run is
-- counted by the connection. While it is not served one reselection more is set aside.
abbrev pub open_left : ScenarioValue → Bool → Bool → ℕ → CmdDef → ℕ
open_left s served moves made c =
    for_reselection * (data_runs s c - made + one_where (not served))
    + for_byte * bytes_after s c (made + one_where (served && moves))
    + for_item

-- It is over: its automatic REQUEST SENSE may be left, until that is sent or given up.
abbrev pub sense_left : Sent → ℕ → ℕ
sense_left b n = if list_any (λ m. m == n) b.checks && not (is_done b (sense_item n)) then for_item else 0

abbrev pub command_left : ScenarioValue → RunState → ℕ → CmdDef → ℕ
command_left s k n c =
    if has_item k.story.sent.over (command_item n) then sense_left k.story.sent n
    else if has_item k.story.sent.sent (command_item n) then open_left s (serves_item k.served (command_item n))
    (is_in_data k) (progress_in k.progress (command_id n)).runs c else unsent_left s k.story.sent n c

abbrev pub commands_left : ScenarioValue → RunState → ℕ → List CmdDef → ℕ
commands_left s k n [] = 0
commands_left s k n (c ∷ commands) = command_left s k n c + commands_left s k (n + 1) commands

-- ---- an abort, the n-th

abbrev pub abort_left : ScenarioValue → Sent → ℕ → AbortDef → ℕ
abort_left s b n a =
    if is_done b (abort n) then 0
    else for_calling * (retries_of s.hosts a.host + 1 - count_item b.tries (abort n)) + for_item

abbrev pub aborts_left : ScenarioValue → Sent → ℕ → List AbortDef → ℕ
aborts_left s b n [] = 0
aborts_left s b n (a ∷ aborts) = abort_left s b n a + aborts_left s b (n + 1) aborts

-- ---- resets: those that their devices have neither made nor dropped

abbrev pub awaits_reset : Bool → Own → ℕ → Bool
awaits_reset true o at = nat_lt o.rst at
awaits_reset false o at = not (is_reset_past o.released at)

abbrev pub resets_left : RunState → List ResetDef → ℕ
resets_left k [] = 0
resets_left k (r ∷ resets) =
    one_where (awaits_reset (drives_of k r.dev).rst (own_at k.owns r.dev) r.at) + resets_left k resets

-- ---- all of them

abbrev pub future_left : ScenarioValue → RunState → ℕ
future_left s k =
    commands_left s k 1 s.commands
    + aborts_left s k.story.sent 1 s.aborts
    + for_reset * resets_left k s.resets
    + for_fault s * length k.faults
