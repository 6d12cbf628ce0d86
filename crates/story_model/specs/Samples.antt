-- What is sampled, where and when; and which samples the faults of a scenario strike.
use Rattle.std.specs.Prelude.{ℕ, ◌+◌, Bool, ◌&&◌, ◌||◌, ◌==◌, List, [], ◌∷◌, Option, Some, None, is_none, nat_le}
use Rattle.std.specs.Prelude.{nat_lt, if◌then◌else◌}
use Rattle.std.specs.List.{find}
use Rattle.bus_phases.specs.bus_trace.specs.declared.Row.{Row}
use Rattle.bus_phases.specs.bus_trace.specs.declared.Kind.{Kind}
use Rattle.bus_phases.specs.bus_trace.specs.declared.Kind.TheVariants.{Drives, Fault}
use Rattle.bus_phases.specs.bus_trace.specs.declared.changes.Change.{Change}
use Rattle.bus_phases.specs.bus_trace.specs.declared.delays.TheConstants.{BUS_SETTLE_DELAY}
use Rattle.bus_phases.specs.bus_trace.specs.declared.selection.Call.{Call}
use Rattle.bus_phases.specs.bus_trace.specs.declared.selection.Calling.{Calling}
use Rattle.bus_phases.specs.bus_trace.specs.Changes.{rises, falls, change_of}
use Rattle.bus_phases.specs.bus_trace.specs.Terms.{call, receiver}
use Rattle.array_model.specs.scenario.specs.declared.value.HostDef.{HostDef}
use Rattle.array_model.specs.scenario.specs.declared.value.TargetDef.{TargetDef}
use Rattle.array_model.specs.scenario.specs.declared.value.FaultDef.{FaultDef}
use Rattle.array_model.specs.scenario.specs.Value.{ScenarioValue}

-- A byte that crossed, at its receiver; or the IDs, at a called device.
pub record Sample : Type 0 where
  pub time : ℕ
  pub dev : ℕ

-- At one time the device of the higher ID has its turn first.
abbrev pub is_sampled_before : Sample → Sample → Bool
is_sampled_before a b = nat_lt a.time b.time || (a.time == b.time && nat_lt b.dev a.dev)

abbrev pub with_sample : Sample → List Sample → List Sample
with_sample a [] = a ∷ []
with_sample a (b ∷ samples) = if is_sampled_before b a then b ∷ with_sample a samples else a ∷ b ∷ samples

-- RST that a device begins to drive takes away what this device, or one of a lower ID, would sample at that time,
-- and all that is later.
abbrev pub is_kept_by_reset : Row → Sample → Bool
is_kept_by_reset row a = nat_lt a.time row.time || (a.time == row.time && nat_lt row.dev a.dev)

abbrev pub kept_samples : Row → List Sample → List Sample
kept_samples row [] = []
kept_samples row (a ∷ samples) =
    if is_kept_by_reset row a then a ∷ kept_samples row samples else kept_samples row samples

-- ---- the IDs: a bus settle delay and its latency after BSY became false in the calling (6.1.3, 6.1.4)

abbrev pub host_latency : Option HostDef → Option ℕ
host_latency None = None
host_latency (Some h) = Some h.latency

abbrev pub target_latency : Option TargetDef → Option ℕ → Option ℕ
target_latency None other = other
target_latency (Some t) other = Some t.latency

-- The latency of a device that is there.
abbrev pub latency_of : ScenarioValue → ℕ → Option ℕ
latency_of s dev = target_latency (find (λ (t : TargetDef). t.dev == dev) s.targets)
    (host_latency (find (λ (h : HostDef). h.dev == dev) s.hosts))

abbrev pub samples_with_ids_after : Option ℕ → ℕ → ℕ → List Sample → List Sample
samples_with_ids_after None dev time samples = samples
samples_with_ids_after (Some latency) dev time samples =
    with_sample (record { time = time + BUS_SETTLE_DELAY + latency; dev = dev }) samples

abbrev pub samples_with_ids_of : ScenarioValue → Option Calling → ℕ → List Sample → List Sample
samples_with_ids_of s None time samples = samples
samples_with_ids_of s (Some k) time samples =
    if is_none k.answered then samples_with_ids_after (latency_of s k.called) k.called time samples else samples

abbrev pub samples_with_ids : ScenarioValue → Option Call → ℕ → List Sample → List Sample
samples_with_ids s None time samples = samples
samples_with_ids s (Some k) time samples = samples_with_ids_of s k.calling time samples

-- ---- row by row

abbrev pub samples_with_byte : Option ℕ → ℕ → List Sample → List Sample
samples_with_byte None time samples = samples
samples_with_byte (Some dev) time samples = with_sample (record { time = time; dev = dev }) samples

abbrev pub samples_on : ScenarioValue → List Row → Row → Change → List Sample → List Sample
samples_on s rows row c samples =
    if rises c.own.rst c.next.rst then kept_samples row samples
    else if falls c.before.bsy c.after.bsy && c.after.sel then samples_with_ids s (call (row ∷ rows)) row.time samples
    else samples_with_byte (receiver (row ∷ rows)) row.time samples

-- The samples of these rows, the newest row first, in order of time.
abbrev pub samples : ScenarioValue → List Row → List Sample
samples s [] = []
samples s (row ∷ rows) = samples_on s rows row (change_of rows row) (samples s rows)

-- ---- faults: each strikes the first sample at or after its time that no earlier one took

pub record Strike : Type 0 where
  pub sample : Sample
  pub bit : ℕ

abbrev pub first_from : ℕ → List Sample → Option Sample
first_from time [] = None
first_from time (a ∷ samples) = if nat_le time a.time then Some a else first_from time samples

abbrev pub without_first : ℕ → List Sample → List Sample
without_first time [] = []
without_first time (a ∷ samples) = if nat_le time a.time then samples else a ∷ without_first time samples

abbrev pub with_strike : Strike → List Strike → List Strike
with_strike k [] = k ∷ []
with_strike k (l ∷ strikes) = if is_sampled_before l.sample k.sample then l ∷ with_strike k strikes else k ∷ l ∷ strikes

abbrev pub with_first_strike : Option Sample → ℕ → List Strike → List Strike
with_first_strike None bit strikes = strikes
with_first_strike (Some a) bit strikes = with_strike (record { sample = a; bit = bit }) strikes

abbrev pub strikes_by : List FaultDef → List Sample → List Strike
strikes_by [] samples = []
strikes_by (f ∷ faults) samples =
    with_first_strike (first_from f.at samples) f.bit (strikes_by faults (without_first f.at samples))

-- In order of time, then of their lines.
abbrev pub with_fault : FaultDef → List FaultDef → List FaultDef
with_fault f [] = f ∷ []
with_fault f (g ∷ faults) = if nat_lt g.at f.at then g ∷ with_fault f faults else f ∷ g ∷ faults

abbrev pub faults_in_order : List FaultDef → List FaultDef
faults_in_order [] = []
faults_in_order (f ∷ faults) = with_fault f (faults_in_order faults)

-- What the faults of the scenario strike, in order of time; and what the rows say was struck.
abbrev pub expected_strikes : ScenarioValue → List Row → List Strike
expected_strikes s rows = strikes_by (faults_in_order s.faults) (samples s rows)

abbrev pub strike_of : Row → Kind → List Strike → List Strike
strike_of row (Drives lines) strikes = strikes
strike_of row (Fault bit) strikes = record { sample = record { time = row.time; dev = row.dev }; bit = bit } ∷ strikes

abbrev pub row_strikes : List Row → List Strike
row_strikes [] = []
row_strikes (row ∷ rows) = strike_of row row.kind (row_strikes rows)
