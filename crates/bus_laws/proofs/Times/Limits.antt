-- The latencies of a scenario that obeys the rules of its text are within their limit.
use Rattle.bus_laws.proofs
use proofs.Names.{ℕ, ◌≡◌, ◌≤◌, Bool, true, false, List, [], ◌∷◌, Option, Some, arith, same_Some, find, AllByRecursion}
use proofs.Names.{◌==◌, if◌then◌else◌, none_number, ScenarioValue, Obeys, HostDef, TargetDef, host_latency}
use proofs.Names.{target_latency, latency_of, obeys_fits, IsHostLine, IsTargetLine, FitsBus, HasShortLatencies}

host_found : (s : ScenarioValue) (hosts : List HostDef) (dev lat : ℕ) → AllByRecursion (IsHostLine s) hosts
    → host_latency (find (λ (h : HostDef). h.dev == dev) hosts) ≡ Some lat → lat ≤ 100
host_found s [] dev lat a e = absurd (none_number lat e)
host_found s (h ∷ hosts) dev lat a e = go (h.dev == dev) (λ z. host_found s hosts dev lat a.1 z) e
  where
    go : (q : Bool) → (host_latency (find (λ (g : HostDef). g.dev == dev) hosts) ≡ Some lat → lat ≤ 100)
        → host_latency (if q then Some h else find (λ (g : HostDef). g.dev == dev) hosts) ≡ Some lat → lat ≤ 100
    go true more z = let w = same_Some h.latency lat z in let u = (a.0).latency in omega arith
    go false more z = more z

target_found : (s : ScenarioValue) (targets : List TargetDef) (dev lat : ℕ) (other : Option ℕ)
    → AllByRecursion (IsTargetLine s) targets → (other ≡ Some lat → lat ≤ 100)
    → target_latency (find (λ (t : TargetDef). t.dev == dev) targets) other ≡ Some lat → lat ≤ 100
target_found s [] dev lat other a f e = f e
target_found s (t ∷ targets) dev lat other a f e =
    go (t.dev == dev) (λ z. target_found s targets dev lat other a.1 f z) e
  where
    go : (q : Bool) → (target_latency (find (λ (g : TargetDef). g.dev == dev) targets) other ≡ Some lat → lat ≤ 100)
        → target_latency (if q then Some t else find (λ (g : TargetDef). g.dev == dev) targets) other ≡ Some lat
        → lat ≤ 100
    go true more z = let w = same_Some t.latency lat z in let u = (a.0).latency in omega arith
    go false more z = more z

pub latency_within : (s : ScenarioValue) (d lat : ℕ) → FitsBus s → latency_of s d ≡ Some lat → lat ≤ 100
latency_within s d lat f e = target_found s s.targets d lat
    (host_latency (find (λ (h : HostDef). h.dev == d) s.hosts)) f.targets (λ z. host_found s s.hosts d lat f.hosts z) e

pub obeys_latencies : (s : ScenarioValue) → Obeys s → HasShortLatencies s
obeys_latencies s o = let f = obeys_fits s o in record { latency = λ d lat e. latency_within s d lat f e }
