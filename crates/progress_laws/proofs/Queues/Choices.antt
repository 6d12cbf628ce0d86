-- A queue in which a command waits has one that may run: the last HEAD OF QUEUE one, or else the first (6.6.17, 7.8.2).
use Rattle.progress_laws.proofs
use proofs.Names.{ℕ, zero, suc, ◌≡◌, ◌+◌, ◌<◌, ◌≤◌, Bool, true, false, ◌∙◌, List, [], ◌∷◌, ◌++◌, length, Option, Some}
use proofs.Names.{None, refl, sym, ap, subst, arith, inl, inr, cases_Bool, if◌then◌else◌, Pick, choice, chosen_place}
use proofs.Names.{entries_of, entry_of, is_head, last_head, last_of, may_run_after, picked_place, process_at}
use proofs.Names.{process_at_if, runnable_after, runnable_by, Process, Entry, first_runs}

-- ---- places

abbrev pub AllBelow : ℕ → List ℕ → Type 0
AllBelow m [] = Unit {0}
AllBelow m (place ∷ more) = (place < m) × AllBelow m more

pub record IsBelow (o : Option ℕ) (m : ℕ) : Type 0 where
  pub place : ℕ
  pub is : o ≡ Some place
  pub below : place < m

last_below : (place m : ℕ) (more : List ℕ) → place < m → AllBelow m more → last_of place more < m
last_below place m [] lt h = lt
last_below place m (later ∷ more) lt h = last_below later m more h.0 h.1

picked_below : (pick : Pick) (m place : ℕ) (more : List ℕ) → place < m → AllBelow m more
    → IsBelow (picked_place pick (place ∷ more)) m
picked_below Pick.First m place more lt h = record { place = place; is = refl; below = lt }
picked_below Pick.Last m place more lt h =
    record { place = last_of place more; is = refl; below = last_below place m more lt h }

-- ---- those that may run

after_below : (before : List Entry) (place m : ℕ) (waiting : List Entry) → place + length waiting ≤ m
    → AllBelow m (runnable_after before place waiting)
after_below before place m [] le = tt
after_below before place m (x ∷ waiting) le =
    elim (cases_Bool (may_run_after before x)) [
      | inl e ↦ rw e (omega (arith, le), (after_below (before ++ x ∷ []) (suc place) m waiting (omega (arith, le))))
      | inr e ↦ rw e (after_below (before ++ x ∷ []) (suc place) m waiting (omega (arith, le)))
    ]

head_below : (waiting : List Entry) (place m : ℕ) (found : Option ℕ) (head : ℕ) → place + length waiting ≤ m
    → ((h : ℕ) → found ≡ Some h → h < m) → last_head waiting place found ≡ Some head → head < m
head_below [] place m found head le was e = was head e
head_below (x ∷ waiting) place m found head le was e = head_below waiting (suc place) m
    (if is_head x.class then Some place else found) head (omega (arith, le)) (go (is_head x.class)) e
  where
    same : (h : ℕ) → ◌≡◌ {A = Option ℕ} (Some place) (Some h) → place ≡ h
    same h z = cc

    go : (q : Bool) (h : ℕ) → (if q then Some place else found) ≡ Some h → h < m
    go true h z = let w = same h z in omega (arith, le, w)
    go false h z = was h z

no_place : (h : ℕ) {m : ℕ} → ◌≡◌ {A = Option ℕ} None (Some h) → h < m
no_place h e = absurd cc

chosen_below : (pick : Pick) (x : Entry) (waiting : List Entry)
    → IsBelow (chosen_place pick (x ∷ waiting)) (length (x ∷ waiting))
chosen_below pick x waiting = go (last_head (x ∷ waiting) 0 None) refl
  where
    all : List Entry
    all = x ∷ waiting

    go : (o : Option ℕ) → last_head all 0 None ≡ o → IsBelow (picked_place pick (runnable_by o all)) (length all)
    go (Some head) e = picked_below pick (length all) head []
        (head_below all 0 (length all) None head (omega arith) (λ h z. no_place h z) e) tt
    go None e = subst (λ (q : Bool). IsBelow
        (picked_place pick (if q then 0 ∷ runnable_after (x ∷ []) 1 waiting else runnable_after (x ∷ []) 1 waiting))
        (length all)) (sym (first_runs x)) (picked_below pick (length all) 0 (runnable_after (x ∷ []) 1 waiting)
        (omega arith) (after_below (x ∷ []) 1 (length all) waiting (omega arith)))

-- ---- the process

pub record IsChosen (o : Option Process) : Type 0 where
  pub process : Process
  pub is : o ≡ Some process

entries_length : (waiting : List Process) → length (entries_of waiting) ≡ length waiting
entries_length [] = refl
entries_length (c ∷ waiting) = ap suc (entries_length waiting)

place_filled : (waiting : List Process) (place : ℕ) → place < length waiting → IsChosen (process_at waiting place)
place_filled [] place lt = absurd (let w = lt in omega arith)
place_filled (c ∷ waiting) zero lt = record { process = c; is = refl }
place_filled (c ∷ waiting) (suc place) lt = place_filled waiting place (omega (arith, lt))

pub some_chosen : (pick : Pick) (t : Process) (waiting : List Process) → IsChosen (choice pick (t ∷ waiting))
some_chosen pick t waiting =
    let w = chosen_below pick (entry_of t) (entries_of waiting) in
    let lt : w.place < length (t ∷ waiting) = let a = w.below in
    let e = entries_length waiting in omega (arith, a, e) in
    let c = place_filled (t ∷ waiting) w.place lt in
    record { process = c.process; is = ap (process_at_if (t ∷ waiting)) w.is ∙ c.is }
