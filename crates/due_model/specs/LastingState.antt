-- What lasts from one connection to the next: who has met whom, and how far each process has come.
use Rattle.std.specs.Prelude.{ℕ, ◌+◌, Bool, true, false, ◌&&◌, ◌||◌, ◌==◌, List, [], ◌∷◌, if◌then◌else◌}
use Rattle.std.specs.List.{list_any}
use Rattle.bus_rules.specs.bus_base.specs.declared.ProcId.{ProcId}
use Rattle.bus_rules.specs.bus_base.specs.declared.AbortKind.{AbortKind}
use Rattle.bus_rules.specs.bus_base.specs.declared.AbortKind.TheVariants as aborts
use Rattle.bus_rules.specs.bus_base.specs.declared.Event.{Event}
use Rattle.bus_rules.specs.bus_base.specs.declared.Event.TheVariants as events
use Rattle.dialogue_model.specs.array_model.specs.Processes.{same_id}
use Rattle.dialogue_model.specs.PhaseBytes.{one_if}

-- ---- which pairs have had the connection in which they may negotiate; in text 1 a reset ends this for good

pub record Negotiated : Type 0 where
  pub pairs : List (ℕ × ℕ)
  pub targets : List ℕ
  pub all : Bool

abbrev pub none_negotiated : Negotiated
none_negotiated = record { pairs = []; targets = []; all = false }

abbrev pub has_negotiated : Negotiated → ℕ → ℕ → Bool
has_negotiated m i t =
    m.all || list_any (λ k. k == t) m.targets || list_any (λ (p : ℕ × ℕ). p.0 == i && p.1 == t) m.pairs

abbrev pub with_negotiated : Negotiated → ℕ → ℕ → Negotiated
with_negotiated m i t = record m { pairs = (i, t) ∷ m.pairs }

abbrev pub pairs_without : List (ℕ × ℕ) → ℕ → List (ℕ × ℕ)
pairs_without [] t = []
pairs_without (p ∷ pairs) t = if p.1 == t then pairs_without pairs t else p ∷ pairs_without pairs t

abbrev pub negotiated_after_device_reset : ℕ → Negotiated → ℕ → Negotiated
negotiated_after_device_reset version m t =
    if version == 1 then record m { targets = t ∷ m.targets } else record m { pairs = pairs_without m.pairs t }

abbrev pub negotiated_after_reset : ℕ → Negotiated → Negotiated
negotiated_after_reset version m = if version == 1 then record m { all = true } else record m { pairs = [] }

abbrev pub negotiated_after_abort : ℕ → Negotiated → ℕ → AbortKind → Negotiated
negotiated_after_abort version m t aborts.Device = negotiated_after_device_reset version m t
negotiated_after_abort version m t aborts.All = m
negotiated_after_abort version m t (aborts.Tag n) = m
negotiated_after_abort version m t aborts.WholeQueue = m

abbrev pub negotiated_after_event : ℕ → Negotiated → Event → Negotiated
negotiated_after_event version m (events.Aborted host target unit what) = negotiated_after_abort version m target what
negotiated_after_event version m (events.Reset dev) = negotiated_after_reset version m
negotiated_after_event version m _ = m

abbrev pub negotiated_after : ℕ → Negotiated → List Event → Negotiated
negotiated_after version m [] = m
negotiated_after version m (event ∷ shown) = negotiated_after_event version (negotiated_after version m shown) event

-- ---- how many of its data runs a process has made, and how many recoveries were counted for it

pub record ProcessProgress : Type 0 where
  pub id : ProcId
  pub runs : ℕ
  pub recoveries : ℕ

abbrev pub progress_in : List ProcessProgress → ProcId → ProcessProgress
progress_in [] id = record { id = id; runs = 0; recoveries = 0 }
progress_in (p ∷ all) id = if same_id p.id id then p else progress_in all id

-- The newest stands first.
abbrev pub progress_with : List ProcessProgress → ProcId → Bool → Bool → List ProcessProgress
progress_with all id runs recovers =
    if runs || recovers then record {
      id = id;
      runs = (progress_in all id).runs + one_if runs;
      recoveries = (progress_in all id).recoveries + one_if recovers;
    } ∷ all else all
