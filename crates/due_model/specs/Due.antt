-- What each device is due to do next, by the stage of the bus: a connection, a calling, an arbitration or a free bus;
-- and RST, before everything else (6.2.2).
use Rattle.std.specs.Prelude.{ℕ, ◌≡◌, Bool, true, false, not, ◌&&◌, ◌==◌, List, [], ◌∷◌, Option, Some, None, nat_lt}
use Rattle.bus_rules.specs.bus_trace.specs.declared.connection.Connection.{Connection}
use Rattle.dialogue_model.specs.scenario.specs.declared.value.ResetDef.{ResetDef}
use Rattle.dialogue_model.specs.scenario.specs.Value.{ScenarioValue}
use Rattle.dialogue_model.specs.story_model.specs.Samples.{latency_of}
use Rattle.dialogue_model.specs.reaction_model.specs.declared.due.Due.{Due}
use Rattle.dialogue_model.specs.reaction_model.specs.declared.due.Myself.{Myself}
use Rattle.dialogue_model.specs.reaction_model.specs.Reactions.{sooner_time, time_if}
use Rattle.dialogue_model.specs.reaction_model.specs.Linking.{link_due, sample_time}
use Rattle.dialogue_model.specs.reaction_model.specs.Reset.{with_reset}
use Rattle.due_model.specs.Own.{Own, own_at}
use Rattle.due_model.specs.RunState.{RunState, bus_of, drives_of}
use Rattle.due_model.specs.Sights.{sight_of, want_of, flip_of}
use Rattle.due_model.specs.Connected.{connected_due}

-- ---- RST

-- The time of its next reset line. One that falls while it drives RST, or as it releases it, is dropped (6.2.2).
abbrev pub is_reset_past : Option ℕ → ℕ → Bool
is_reset_past None time = false
is_reset_past (Some released) time = not (nat_lt released time)

abbrev pub reset_from : ℕ → Option ℕ → List ResetDef → Option ℕ
reset_from dev released [] = None
reset_from dev released (r ∷ resets) =
    sooner_time (time_if (r.dev == dev && not (is_reset_past released r.at)) r.at) (reset_from dev released resets)

-- ---- without RST of its own: in a connection by its bytes, else by its way to a connection

abbrev pub link_due_of : ScenarioValue → RunState → Myself → Option Due
link_due_of s k me = link_due (sight_of k) me (want_of s k me.dev) (flip_of k.faults (sample_time (sight_of k) me))

abbrev pub stage_due : ScenarioValue → RunState → Myself → Bool → Option Connection → Option Due
stage_due s k me false (Some n) = connected_due s k me n
stage_due s k me false None = link_due_of s k me
stage_due s k me true n = link_due_of s k me

abbrev pub calm_due : ScenarioValue → RunState → Myself → Option Due
calm_due s k me = stage_due s k me (bus_of k).rst k.story.bus_state.connection

abbrev pub device_due : ScenarioValue → RunState → Myself → Own → Option Due
device_due s k me o = with_reset me o.rst (reset_from me.dev o.released s.resets) (calm_due s k me)

-- ---- a device that is there

abbrev pub self_of : RunState → ℕ → ℕ → Myself
self_of k dev latency = record { dev = dev; latency = latency; own = drives_of k dev; since = (own_at k.owns dev).row }

abbrev pub due_if : ScenarioValue → RunState → ℕ → Option ℕ → Option Due
due_if s k dev None = None
due_if s k dev (Some latency) = device_due s k (self_of k dev latency) (own_at k.owns dev)

abbrev pub due_by : ScenarioValue → RunState → ℕ → Option Due
due_by s k dev = due_if s k dev (latency_of s dev)

-- Of a device that is no end of the connection nothing is due by it.
abbrev pub AreOthersStill : Type 0
AreOthersStill = (s : ScenarioValue) (k : RunState) (me : Myself) (n : Connection) → (n.initiator == me.dev) ≡ false
    → (n.target == me.dev) ≡ false → connected_due s k me n ≡ None
