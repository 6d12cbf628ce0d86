-- What is chosen of the waiting commands, and that one is wherever any waits.
use Rattle.std.proofs.Common.{◌≡◌, ◌<◌, ℕ, ◌+◌, zero, suc, Bool, true, false, List, [], ◌∷◌, ◌++◌, length, Option, Some}
use Rattle.std.proofs.Common.{None, refl, ap, sym, ◌∙◌, arith}
use Rattle.std.specs.Prelude.{if◌then◌else◌}
use Rattle.bus_base.specs.declared.events.Pick.{Pick}
use Rattle.bus_base.specs.declared.events.Pick.TheVariants as picks
use Rattle.array_model.specs.declared.entries.Entry.{Entry}
use Rattle.array_model.specs.Order.{is_head, is_ordered, last_head, may_run_after, runnable_after, runnable_by}
use Rattle.array_model.specs.Order.{picked_place, last_of, chosen_place}
use Rattle.tag_queue.specs.Queue.{Queued, key_at, key_at_if, entries_in}
use Rattle.tag_queue.proofs.Scans.{some_same}

pub head_chosen : (pick : Pick) (waiting : List Entry) (head : ℕ) → last_head waiting 0 None ≡ Some head
    → chosen_place pick waiting ≡ Some head
head_chosen picks.First waiting head found =
    ap (λ (h : Option ℕ). picked_place picks.First (runnable_by h waiting)) found
head_chosen picks.Last waiting head found = ap (λ (h : Option ℕ). picked_place picks.Last (runnable_by h waiting)) found

pub first_runs : (p : Entry) → may_run_after [] p ≡ true
first_runs p = go (is_ordered p.class)
  where
    go : (b : Bool) → (if b then true else true) ≡ true
    go true = refl
    go false = refl

pub first_chosen : (waiting : List Queued) → last_head (entries_in waiting) 0 None ≡ None
    → key_at_if waiting (chosen_place picks.First (entries_in waiting)) ≡ key_at waiting 0
first_chosen [] none = refl
first_chosen (q ∷ waiting) none =
    ap (λ (h : Option ℕ). key_at_if (q ∷ waiting) (picked_place picks.First (runnable_by h (entries_in (q ∷ waiting)))))
    none
    ∙ ap (λ (b : Bool). key_at_if (q ∷ waiting)
    (picked_place picks.First (if b then 0 ∷ runnable_after (q.entry ∷ []) 1 (entries_in waiting)
    else runnable_after (q.entry ∷ []) 1 (entries_in waiting)))) (first_runs q.entry)

pub last_chosen : (waiting : List Entry) → last_head waiting 0 None ≡ None
    → chosen_place picks.Last waiting ≡ picked_place picks.Last (runnable_after [] 0 waiting)
last_chosen waiting none = ap (λ (h : Option ℕ). picked_place picks.Last (runnable_by h waiting)) none

-- ---- one is chosen

pub some_none : {A : Type 0} (x : A) → Some x ≡ None → ⊥
some_none x e = cc

key_there : (waiting : List Queued) (place : ℕ) → place < length waiting → key_at waiting place ≡ None → ⊥
key_there [] place below none = omega arith
key_there (q ∷ waiting) zero below none = some_none q.key none
key_there (q ∷ waiting) (suc place) below none = key_there waiting place (omega arith) none

length_entries : (waiting : List Queued) → length (entries_in waiting) ≡ length waiting
length_entries [] = refl
length_entries (q ∷ waiting) = ap suc (length_entries waiting)

IsBelow : ℕ → Option ℕ → Type 0
IsBelow bound found = (place : ℕ) → found ≡ Some place → place < bound

head_below : (waiting : List Entry) (place : ℕ) (found : Option ℕ) (bound : ℕ) → place + length waiting ≡ bound
    → IsBelow bound found → IsBelow bound (last_head waiting place found)
unfolding IsBelow
head_below [] place found bound whole below = below
head_below (p ∷ waiting) place found bound whole below =
    head_below waiting (suc place) _ bound (omega arith) (go (is_head p.class))
  where
    go : (b : Bool) → IsBelow bound (if b then Some place else found)
    go true = λ other same. let e : place ≡ other = some_same place other same in omega arith
    go false = below

last_below : (before : List Entry) (place : ℕ) (waiting : List Entry) (bound first : ℕ) → place + length waiting ≡ bound
    → first < bound → last_of first (runnable_after before place waiting) < bound
last_below before place [] bound first whole below = below
last_below before place (p ∷ waiting) bound first whole below = go (may_run_after before p)
    (last_below (before ++ p ∷ []) (suc place) waiting bound first (omega arith) below)
    (last_below (before ++ p ∷ []) (suc place) waiting bound place (omega arith) (omega arith))
  where
    go : (b : Bool) → last_of first (runnable_after (before ++ p ∷ []) (suc place) waiting) < bound
        → last_of place (runnable_after (before ++ p ∷ []) (suc place) waiting) < bound
        → last_of first (if b then place ∷ runnable_after (before ++ p ∷ []) (suc place) waiting
        else runnable_after (before ++ p ∷ []) (suc place) waiting) < bound
    go true without with_it = with_it
    go false without with_it = without

-- Without a HEAD OF QUEUE command.
chosen_in_order : (pick : Pick) (q : Queued) (waiting : List Queued)
    → key_at_if (q ∷ waiting) (picked_place pick (runnable_after [] 0 (entries_in (q ∷ waiting)))) ≡ None → ⊥
chosen_in_order picks.First q waiting none = some_none q.key (sym
    (ap (λ (b : Bool). key_at_if (q ∷ waiting) (picked_place picks.First (if b then 0 ∷ runnable_after (q.entry ∷ []) 1
    (entries_in waiting) else runnable_after (q.entry ∷ []) 1 (entries_in waiting)))) (first_runs q.entry)) ∙ none)
chosen_in_order picks.Last q waiting none =
    let length_is = length_entries waiting in
    key_there (q ∷ waiting) (last_of 0 (runnable_after (q.entry ∷ []) 1 (entries_in waiting)))
    (last_below (q.entry ∷ []) 1 (entries_in waiting) (length (q ∷ waiting)) 0 (omega arith) (omega arith)) (sym
    (ap (λ (b : Bool). key_at_if (q ∷ waiting) (picked_place picks.Last (if b then 0 ∷ runnable_after (q.entry ∷ []) 1
    (entries_in waiting) else runnable_after (q.entry ∷ []) 1 (entries_in waiting)))) (first_runs q.entry)) ∙ none)

pub chosen_none : (pick : Pick) (waiting : List Queued)
    → key_at_if waiting (chosen_place pick (entries_in waiting)) ≡ None → waiting ≡ []
unfolding IsBelow
chosen_none pick [] none = refl
chosen_none pick (q ∷ waiting) none = absurd (go (last_head (entries_in (q ∷ waiting)) 0 None) refl)
  where
    go : (h : Option ℕ) → last_head (entries_in (q ∷ waiting)) 0 None ≡ h → ⊥
    go (Some head) found =
        let length_is = length_entries waiting in
        key_there (q ∷ waiting) head (head_below (entries_in (q ∷ waiting)) 0 None (length (q ∷ waiting))
        (omega arith) (λ place same. absurd (some_none place (sym same))) head found)
        (sym (ap (key_at_if (q ∷ waiting)) (head_chosen pick (entries_in (q ∷ waiting)) head found)) ∙ none)
    go None found = chosen_in_order pick q waiting (sym
        (ap (λ (h : Option ℕ). key_at_if (q ∷ waiting) (picked_place pick (runnable_by h (entries_in (q ∷ waiting)))))
        found) ∙ none)
