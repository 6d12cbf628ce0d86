-- Since when an initiator wants the bus, and when a device drives RST next, lies before any time past 10^12 ns, where
-- the scenario fits the bus.
use Rattle.std.proofs.Common.{ℕ, ◌+◌, ◌<◌, ◌≤◌, Bool, true, false, not, ◌&&◌, ◌||◌, List, [], ◌∷◌, Option, Some, None}
use Rattle.std.proofs.Common.{arith}
use Rattle.std.specs.Prelude.{◌==◌, is_some, if◌then◌else◌}
use Rattle.std.specs.List.{AllByRecursion}
use Rattle.bus_lines.specs.Timely.{IsBefore}
use Rattle.scenario.specs.declared.value.CmdDef.{CmdDef}
use Rattle.scenario.specs.declared.value.AbortDef.{AbortDef}
use Rattle.scenario.specs.declared.value.ResetDef.{ResetDef}
use Rattle.scenario.specs.Value.{ScenarioValue}
use Rattle.due_model.specs.story_model.specs.Items.{Sent, sense_from, open_limit_of}
use Rattle.reaction_model.specs.Reactions.{sooner_time, time_if}
use Rattle.due_model.specs.dialogue_model.specs.Wants.{OwnCommand, OwnAbort, may_follow, open_in, abort_since}
use Rattle.due_model.specs.dialogue_model.specs.Wants.{command_since}
use Rattle.due_model.specs.Due.{is_reset_past, reset_from}
use Rattle.due_model.specs.Wants.{own_command, own_commands, own_abort, own_aborts, item_want_time}
use Rattle.scsi_device.specs.Lines.{IsCommandLine, IsAbortLine, FitsBus}
use Rattle.scsi_device.proofs.Finds.{all_are}

far : (end t : ℕ) → 1000000000000 < end → t ≤ 1000000000000 → t < end
far end t lt le = omega arith

sooner_before : (end : ℕ) (a b : Option ℕ) → IsBefore end a → IsBefore end b → IsBefore end (sooner_time a b)
sooner_before end None b x y = y
sooner_before end (Some a) None x y = x
sooner_before end (Some a) (Some b) x y = omega arith

time_before : (end : ℕ) (q : Bool) (t : ℕ) → t < end → IsBefore end (time_if q t)
time_before end true t lt = lt
time_before end false t lt = tt

either_before : (end : ℕ) (q : Bool) (a b : Option ℕ) → IsBefore end a → IsBefore end b
    → IsBefore end (if q then a else b)
either_before end true a b x y = x
either_before end false a b x y = y

-- ---- aborts and commands

aborts_before : (end : ℕ) (b : Sent) (dev n : ℕ) (aborts : List AbortDef)
    → AllByRecursion (λ (a : AbortDef). a.at < end) aborts → IsBefore end (abort_since (own_aborts b dev n aborts))
aborts_before end b dev n [] all = tt
aborts_before end b dev n (a ∷ aborts) all = go (a.host == dev) (aborts_before end b dev (n + 1) aborts all.1)
  where
    go : (q : Bool) → IsBefore end (abort_since (own_aborts b dev (n + 1) aborts)) → IsBefore end
        (abort_since (if q then own_abort b n a ∷ own_aborts b dev (n + 1) aborts else own_aborts b dev (n + 1) aborts))
    go true more =
        let own : OwnAbort = own_abort b n a in
        sooner_before end (time_if (not own.done) a.at) (abort_since (own_aborts b dev (n + 1) aborts))
        (time_before end (not own.done) a.at all.0) more
    go false more = more

commands_before : (end : ℕ) (b : Sent) (dev n most : ℕ) (now commands : List CmdDef)
    → AllByRecursion (λ (c : CmdDef). c.at < end) commands
    → IsBefore end (command_since most now (own_commands b dev n commands))
commands_before end b dev n most now [] all = tt
commands_before end b dev n most now (c ∷ commands) all =
    go (c.host == dev) (commands_before end b dev (n + 1) most now commands all.1)
  where
    go : (q : Bool) → IsBefore end (command_since most now (own_commands b dev (n + 1) commands))
        → IsBefore end (command_since most now
        (if q then own_command b n c ∷ own_commands b dev (n + 1) commands else own_commands b dev (n + 1) commands))
    go true more =
        let own : OwnCommand = own_command b n c in
        either_before end (not (own.sent || own.over)) (time_if (may_follow most c.at now c) c.at)
        (command_since most now (own_commands b dev (n + 1) commands))
        (time_before end (may_follow most c.at now c) c.at all.0) more
    go false more = more

item_before : (end : ℕ) (s : ScenarioValue) (b : Sent) (dev : ℕ) → 0 < end
    → AllByRecursion (λ (a : AbortDef). a.at < end) s.aborts → AllByRecursion (λ (c : CmdDef). c.at < end) s.commands
    → IsBefore end (item_want_time s b dev)
item_before end s b dev some x y =
    let own : List OwnCommand = own_commands b dev 1 s.commands in
    let most : ℕ = open_limit_of s.hosts dev in
    let sense : Bool = is_some (sense_from s b dev b.checks) in
    sooner_before end (abort_since (own_aborts b dev 1 s.aborts))
    (sooner_time (time_if sense 0) (command_since most (open_in own) own)) (aborts_before end b dev 1 s.aborts x)
    (sooner_before end (time_if sense 0) (command_since most (open_in own) own) (time_before end sense 0 some)
    (commands_before end b dev 1 most (open_in own) s.commands y))

-- ---- resets

resets_before : (end dev : ℕ) (released : Option ℕ) (resets : List ResetDef)
    → AllByRecursion (λ (r : ResetDef). r.at < end) resets → IsBefore end (reset_from dev released resets)
resets_before end dev released [] all = tt
resets_before end dev released (r ∷ resets) all = sooner_before end
    (time_if (r.dev == dev && not (is_reset_past released r.at)) r.at) (reset_from dev released resets)
    (time_before end (r.dev == dev && not (is_reset_past released r.at)) r.at all.0)
    (resets_before end dev released resets all.1)

-- ---- the scenario

pub wants_before : (end : ℕ) (s : ScenarioValue) (b : Sent) (dev : ℕ) → 1000000000000 < end → FitsBus s
    → IsBefore end (item_want_time s b dev)
wants_before end s b dev lt f =
    item_before end s b dev (omega arith)
    (all_are (IsAbortLine s) (λ (a : AbortDef). a.at < end) s.aborts (λ a w. far end a.at lt w.time) f.aborts)
    (all_are (IsCommandLine s) (λ (c : CmdDef). c.at < end) s.commands (λ c w. far end c.at lt w.time) f.commands)

pub next_reset_before : (end : ℕ) (s : ScenarioValue) (dev : ℕ) (released : Option ℕ) → 1000000000000 < end → FitsBus s
    → IsBefore end (reset_from dev released s.resets)
next_reset_before end s dev released lt f =
    resets_before end dev released s.resets (all_are (λ (r : ResetDef). r.at ≤ 1000000000000)
    (λ (r : ResetDef). r.at < end) s.resets (λ r w. far end r.at lt w) f.resets)
