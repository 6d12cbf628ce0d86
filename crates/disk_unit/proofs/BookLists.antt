-- The lists that a unit's books are.
use Rattle.std.proofs.Common.{ℕ, zero, suc, ◌≡◌, ◌<◌, Bool, true, false, List, [], ◌∷◌, ◌++◌, ◌∙◌, refl, sym, ap, subst}
use Rattle.std.proofs.Common.{arith, length, get_or, set, Option, Some, None}
use Rattle.std.specs.Prelude.{if◌then◌else◌, ◌==◌}
use Rattle.std.proofs.lemmas.Bool.{eqb-true}
use Rattle.array_model.specs.declared.entries.Entry.{Entry}
use Rattle.tag_queue.specs.Queue.{Queued, queued, is_current, waiting_in, has_key, entry_at, without_key, key_at}
use Rattle.tag_queue.specs.Queue.{key_at_if, is_of, without_those_of}
use Rattle.tag_queue.specs.declared.those.Those.{Those}
use Rattle.disk_unit.specs.declared.command_block.CommandBlock.{CommandBlock}
use Rattle.disk_unit.specs.Books.{block_bytes, blocks_of, AreBounded}

pub length_blocks : (xs : List CommandBlock) → length (blocks_of xs) ≡ length xs
length_blocks [] = refl
length_blocks (x ∷ xs) = ap (λ (n : ℕ). suc n) (length_blocks xs)

pub blocks_at : (xs : List CommandBlock) (k : ℕ) (d : CommandBlock) → k < length xs
    → get_or (blocks_of xs) k [] ≡ block_bytes (get_or xs k d)
blocks_at [] k d l = absurd (omega arith)
blocks_at (x ∷ xs) zero d l = refl
blocks_at (x ∷ xs) (suc k) d l = blocks_at xs k d (omega arith)

pub blocks_set : (xs : List CommandBlock) (k : ℕ) (b : CommandBlock)
    → blocks_of (set xs k b) ≡ set (blocks_of xs) k (block_bytes b)
blocks_set [] k b = refl
blocks_set (x ∷ xs) zero b = refl
blocks_set (x ∷ xs) (suc k) b = ap (λ (t : List (List ℕ)). block_bytes x ∷ t) (blocks_set xs k b)

pub bounded_key : (keys : ℕ) (qs : List Queued) (key : ℕ) → AreBounded keys qs → has_key qs key ≡ true → key < keys
bounded_key keys [] key b h = cc
bounded_key keys (q ∷ qs) key b h = go (q.key == key) refl h (λ k. bounded_key keys qs key b.2 k)
  where
    go : (x : Bool) → (q.key == key) ≡ x → (if x then true else has_key qs key) ≡ true
        → (has_key qs key ≡ true → key < keys) → key < keys
    go true z k more = let e : q.key ≡ key = eqb-true q.key key z in subst (λ (n : ℕ). n < keys) e b.0
    go false z k more = more k

pub bounded_from : (keys : ℕ) (qs : List Queued) (key : ℕ) (e : Entry) → AreBounded keys qs → entry_at qs key ≡ Some e
    → e.from < 8
bounded_from keys [] key e b h = cc
bounded_from keys (q ∷ qs) key e b h = go (q.key == key) h (λ k. bounded_from keys qs key e b.2 k)
  where
    go : (x : Bool) → (if x then Some q.entry else entry_at qs key) ≡ Some e
        → (entry_at qs key ≡ Some e → e.from < 8) → e.from < 8
    go true k more = let same : q.entry ≡ e = cc in subst (λ (f : Entry). f.from < 8) same b.1
    go false k more = more k

pub bounded_append : (keys : ℕ) (qs : List Queued) (key : ℕ) (e : Entry) → AreBounded keys qs → key < keys → e.from < 8
    → AreBounded keys (qs ++ queued key e ∷ [])
bounded_append keys [] key e b l m = (l, m, tt)
bounded_append keys (q ∷ qs) key e b l m = (b.0, b.1, bounded_append keys qs key e b.2 l m)

pub bounded_without : (keys : ℕ) (qs : List Queued) (key : ℕ) → AreBounded keys qs
    → AreBounded keys (without_key qs key)
bounded_without keys [] key b = tt
bounded_without keys (q ∷ qs) key b = go (q.key == key) (bounded_without keys qs key b.2)
  where
    go : (x : Bool) → AreBounded keys (without_key qs key)
        → AreBounded keys (if x then without_key qs key else q ∷ without_key qs key)
    go true k = k
    go false k = (b.0, b.1, k)

pub bounded_cleared : (keys : ℕ) (who : Those) (qs : List Queued) → AreBounded keys qs
    → AreBounded keys (without_those_of who qs)
bounded_cleared keys who [] b = tt
bounded_cleared keys who (q ∷ qs) b = go (is_of who q.entry) (bounded_cleared keys who qs b.2)
  where
    go : (x : Bool) → AreBounded keys (without_those_of who qs)
        → AreBounded keys (if x then without_those_of who qs else q ∷ without_those_of who qs)
    go true k = k
    go false k = (b.0, b.1, k)

-- A key that is found among the waiting is live.
or_live : (q : Queued) (qs : List Queued) (key : ℕ) → has_key qs key ≡ true → has_key (q ∷ qs) key ≡ true
or_live q qs key h = go (q.key == key)
  where
    go : (x : Bool) → (if x then true else has_key qs key) ≡ true
    go true = refl
    go false = h

waiting_live : (current : Option ℕ) (qs : List Queued) (key : ℕ) → has_key (waiting_in current qs) key ≡ true
    → has_key qs key ≡ true
waiting_live current [] key h = h
waiting_live current (q ∷ qs) key h = go (is_current current q.key) h (λ k. waiting_live current qs key k)
  where
    here : (y : Bool) → (if y then true else has_key (waiting_in current qs) key) ≡ true
        → (has_key (waiting_in current qs) key ≡ true → has_key qs key ≡ true)
        → (if y then true else has_key qs key) ≡ true
    here true k more = refl
    here false k more = more k

    go : (x : Bool) → has_key (if x then waiting_in current qs else q ∷ waiting_in current qs) key ≡ true
        → (has_key (waiting_in current qs) key ≡ true → has_key qs key ≡ true) → has_key (q ∷ qs) key ≡ true
    go true k more = or_live q qs key (more k)
    go false k more = here (q.key == key) k more

at_live : (qs : List Queued) (place key : ℕ) → key_at qs place ≡ Some key → has_key qs key ≡ true
at_live [] place key h = cc
at_live (q ∷ qs) zero key h = let e : q.key ≡ key = cc in (λ i. if q.key == sym e i then true else has_key qs key) ∙ go
  where
    go : (if q.key == q.key then true else has_key qs key) ≡ true
    go = let same : (q.key == q.key) ≡ true = grind arith in λ i. if same i then true else has_key qs key
at_live (q ∷ qs) (suc place) key h = or_live q qs key (at_live qs place key h)

pub chosen_live : (current : Option ℕ) (qs : List Queued) (place : Option ℕ) (key : ℕ)
    → key_at_if (waiting_in current qs) place ≡ Some key → has_key qs key ≡ true
chosen_live current qs None key h = cc
chosen_live current qs (Some place) key h = waiting_live current qs key (at_live (waiting_in current qs) place key h)
