-- What becomes of an abort line: ABORT, ABORT TAG, CLEAR QUEUE or BUS DEVICE RESET (6.6.1 to 6.6.4).
use Rattle.std.specs.Prelude.{ℕ, ◌+◌, ◌≡◌, ◌≤◌, Bool, true, false, ◌&&◌, ◌||◌, List, [], ◌∷◌, Option, Some, None}
use Rattle.due_model.specs.bus_trace.specs.Changes.{rises}
use Rattle.due_model.specs.bus_trace.specs.Trace.{bus}
use Rattle.due_model.specs.bus_trace.specs.declared.Row.{Row}
use Rattle.due_model.specs.scenario.specs.declared.value.AbortDef.{AbortDef}
use Rattle.due_model.specs.scenario.specs.Value.{ScenarioValue}
use Rattle.due_model.specs.story_model.specs.Items.{Item, Sent, abort, count_item, has_item, same_item}
use Rattle.due_model.specs.story_model.specs.TraceHistory.{retries_of}
use Rattle.due_model.specs.RunSteps.{run_state}

-- A connection began for it, as its initiator had called for it in vain no more often than it calls again; or it was
-- dropped with the first calling in vain beyond that, and no connection began for it.
pub data AbortEnd (s : ScenarioValue) (b : Sent) (m : ℕ) (a : AbortDef) : Type 0 where
  was_sent : has_item b.sent (abort m) ≡ true → has_item b.over (abort m) ≡ false
      → count_item b.tries (abort m) ≤ retries_of s.hosts a.host → AbortEnd s b m a
  was_dropped : has_item b.sent (abort m) ≡ false → has_item b.over (abort m) ≡ true
      → count_item b.tries (abort m) ≡ retries_of s.hosts a.host + 1 → AbortEnd s b m a

-- It is still to be sent.
pub record IsToSend (s : ScenarioValue) (b : Sent) (m : ℕ) (a : AbortDef) : Type 0 where
  pub unsent : has_item b.sent (abort m) ≡ false
  pub kept : has_item b.over (abort m) ≡ false
  pub tried : count_item b.tries (abort m) ≤ retries_of s.hosts a.host

-- ---- what became of the connection that began for it

abbrev pub is_served_for : Option Item → Item → Bool
is_served_for None item = false
is_served_for (Some i) item = same_item i item

-- RST cut it: a device began to drive RST while it stood.
abbrev pub is_cut_by : ScenarioValue → List Row → Row → ℕ → Bool
is_cut_by s rows row m =
    is_served_for (run_state s rows).served (abort m) && rises (bus rows).rst (bus (row ∷ rows)).rst

abbrev pub is_cut : ScenarioValue → List Row → ℕ → Bool
is_cut s [] m = false
is_cut s (row ∷ rows) m = is_cut s rows m || is_cut_by s rows row m
