-- The status that the target offers is that of the reply that was given; and what a process carries of it stays that
-- (6.4, 6.6.19).
use Rattle.trace_laws.proofs
use proofs.Names.{ℕ, zero, suc, ◌≡◌, Bool, true, false, ◌==◌, ◌∙◌, List, [], ◌∷◌, ◌++◌, Option, Some, refl, ap}
use proofs.Names.{true≢false, length, if◌then◌else◌, nat_lt, slice_index, slice_set, eq_self, ScenarioValue, reply_in}
use proofs.Names.{Reply, Process, Area, area_with, status_byte, Messages, Phase, RunState, array_of, process_served}
use proofs.Names.{byte_of_phase, reply_now, status_by, task_if, AreAll}

-- The byte of STATUS.
pub offers_given :
    (s : ScenarioValue) (k : RunState) (dev : ℕ) (c : Process) (reply : Reply) (m : Messages) (more place : ℕ)
    → process_served s k ≡ Some c → reply_in (array_of s k).replies c.id ≡ Some reply
    → byte_of_phase s k dev Phase.Status m more place ≡ reply.status
offers_given s k dev c reply m more place served given = ap (λ (x : Option Process). status_byte (task_if s k x)) served
    ∙ ap (λ (x : Option Reply). status_by (reply_now (array_of s k) c) x) given

set_all : (x : ℕ) (bytes : List ℕ) (at : ℕ) → AreAll x bytes → AreAll x (slice_set bytes at x)
set_all x [] at h = tt
set_all x (b ∷ bytes) zero h = (refl, h.1)
set_all x (b ∷ bytes) (suc at) h = (h.0, set_all x bytes at h.1)

more_all : (x : ℕ) (bytes : List ℕ) → AreAll x bytes → AreAll x (bytes ++ x ∷ [])
more_all x [] h = (refl, tt)
more_all x (b ∷ bytes) h = (h.0, more_all x bytes h.1)

-- A byte of STATUS crosses.
pub area_all : (x : ℕ) (a : Area) → AreAll x a.bytes → AreAll x (area_with a x).bytes
area_all x a h = go (nat_lt a.active (length a.bytes))
  where
    go : (q : Bool) → AreAll x (if q then slice_set a.bytes a.active x else a.bytes ++ x ∷ [])
    go true = set_all x a.bytes a.active h
    go false = more_all x a.bytes h

-- The first of some.
pub first_all : (x : ℕ) (bytes : List ℕ) → AreAll x bytes → (length bytes == 0) ≡ false
    → (x == slice_index bytes 0) ≡ true
first_all x [] h some = absurd (true≢false some)
first_all x (b ∷ bytes) h some = ap (λ (y : ℕ). x == y) h.0 ∙ eq_self x
