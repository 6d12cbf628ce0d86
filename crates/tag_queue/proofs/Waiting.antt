-- What each call does to the waiting commands.
use Rattle.std.proofs.Common.{◌≡◌, ◌≢◌, ℕ, Bool, true, false, List, [], ◌∷◌, ◌++◌, Option, Some, None, refl, ap, sym}
use Rattle.std.proofs.Common.{◌∙◌}
use Rattle.std.specs.Prelude.{◌==◌, if◌then◌else◌}
use Rattle.std.proofs.lemmas.Bool.{eqb-false, eqb-true, ne_eqb}
use Rattle.tag_queue.specs.Queue.{Queued, is_current, current_without, waiting_in, without_key}

pub waiting_push : (current : Option ℕ) (arrived : List Queued) (q : Queued) → is_current current q.key ≡ false
    → waiting_in current (arrived ++ q ∷ []) ≡ waiting_in current arrived ++ q ∷ []
waiting_push current [] q waits = ap (λ (b : Bool). if b then [] else q ∷ []) waits
waiting_push current (a ∷ arrived) q waits = ap
    (λ (rest : List Queued). if is_current current a.key then rest else a ∷ rest) (waiting_push current arrived q waits)
    ∙ go (is_current current a.key)
  where
    go : (b : Bool) → (if b then waiting_in current arrived ++ q ∷ [] else a ∷ (waiting_in current arrived ++ q ∷ []))
        ≡ (if b then waiting_in current arrived else a ∷ waiting_in current arrived) ++ q ∷ []
    go true = refl
    go false = refl

pub waiting_started : (arrived : List Queued) (key : ℕ)
    → waiting_in (Some key) arrived ≡ without_key (waiting_in None arrived) key
waiting_started [] key = refl
waiting_started (q ∷ arrived) key =
    ap (λ (rest : List Queued). if q.key == key then rest else q ∷ rest) (waiting_started arrived key)

other_current : (current : Option ℕ) (key other : ℕ) → other ≢ key
    → is_current (current_without current key) other ≡ is_current current other
other_current None key other apart = refl
other_current (Some c) key other apart = go (key == c) refl
  where
    go : (b : Bool) → (key == c) ≡ b → is_current (if b then None else Some c) other ≡ (other == c)
    go false differs = refl
    go true same = sym (ne_eqb other c (λ e. apart (e ∙ sym (eqb-true key c same))))

pub waiting_without : (current : Option ℕ) (arrived : List Queued) (key : ℕ)
    → waiting_in (current_without current key) (without_key arrived key) ≡ without_key (waiting_in current arrived) key
waiting_without current [] key = refl
waiting_without current (q ∷ arrived) key = go (q.key == key) refl (waiting_without current arrived key)
  where
    gone : (c : Bool) → (q.key == key) ≡ true → without_key (waiting_in current arrived) key
        ≡ without_key (if c then waiting_in current arrived else q ∷ waiting_in current arrived) key
    gone true same = refl
    gone false same = sym (ap (λ (b : Bool). if b then without_key (waiting_in current arrived) key
        else q ∷ without_key (waiting_in current arrived) key) same)

    here : (c : Bool) → (q.key == key) ≡ false
        → (if c then without_key (waiting_in current arrived) key else q ∷ without_key (waiting_in current arrived) key)
        ≡ without_key (if c then waiting_in current arrived else q ∷ waiting_in current arrived) key
    here true other = refl
    here false other = sym (ap (λ (b : Bool). if b then without_key (waiting_in current arrived) key
        else q ∷ without_key (waiting_in current arrived) key) other)

    go : (b : Bool) → (q.key == key) ≡ b → waiting_in (current_without current key) (without_key arrived key)
        ≡ without_key (waiting_in current arrived) key
        → waiting_in (current_without current key) (if b then without_key arrived key else q ∷ without_key arrived key)
        ≡ without_key (if is_current current q.key then waiting_in current arrived else q ∷ waiting_in current arrived)
        key
    go true same rest = rest ∙ gone (is_current current q.key) same
    go false other rest = ap (λ (b : Bool). if b then waiting_in (current_without current key) (without_key arrived key)
        else q ∷ waiting_in (current_without current key) (without_key arrived key))
        (other_current current key q.key (eqb-false q.key key other))
        ∙ ap (λ (l : List Queued). if is_current current q.key then l else q ∷ l) rest
        ∙ here (is_current current q.key) other
