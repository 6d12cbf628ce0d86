-- The process that was put last is the last of its nexus, and those of the others are as before.
use Rattle.transcript_laws.proofs
use proofs.Names.{ℕ, ◌≡◌, ◌∙◌, Bool, true, false, List, [], ◌∷◌, Option, Some, None, refl, sym, ap, ◌&&◌, ◌==◌}
use proofs.Names.{eqb-true, and_parts, is_at, insert_entry, lookup, is_eq, match_ordering, if◌then◌else◌, Ordering}
use proofs.Names.{Less, Equal, Greater, wrong', eq_turned, same_number, by_key, Key, key_of, key_cmp, with_last}
use proofs.Names.{same_nexus, IsLast, Name, Process}
use Rattle.bus_transcript.specs.Processes.{process_of}

-- ---- keys that are the same

pub optional_is : (a b : Option ℕ) → same_number a b ≡ true → a ≡ b
optional_is None None e = refl
optional_is (Some x) (Some y) e = ap (λ (m : ℕ). Some m) (eqb-true x y e)
optional_is None (Some y) e = wrong' e
optional_is (Some x) None e = wrong' e

-- A name of this key.
abbrev name_at : Key → Name
name_at x = record { initiator = (x.0).0; target = (x.0).1; unit = (x.1).0; tag = (x.1).1; number = 0 }

pub nexus_is : (a b : Name) → same_nexus a b ≡ true → key_of a ≡ key_of b
nexus_is a b e =
    let both = and_parts (a.initiator == b.initiator && a.target == b.target)
    (same_number a.unit b.unit && same_number a.tag b.tag) e in
    let ends = and_parts (a.initiator == b.initiator) (a.target == b.target) both.0 in
    let rest = and_parts (same_number a.unit b.unit) (same_number a.tag b.tag) both.1 in
    λ i. (
      (eqb-true a.initiator b.initiator ends.0 i, eqb-true a.target b.target ends.1 i),
      (optional_is a.unit b.unit rest.0 i, optional_is a.tag b.tag rest.1 i),
    )

-- A test that finds one key.
abbrev finds : Key → Key → Bool
finds x e = is_at (key_cmp x) e

found_is : (x e : Key) → finds x e ≡ true → x ≡ e
found_is x e f = nexus_is (name_at x) (name_at e) (sym (by_key (name_at x) (name_at e)) ∙ f)

-- ---- an entry more

at_equal : (t : Key → Bool) (e y : Key) (c q : Process) (es : List (Key × Process)) → y ≡ e
    → lookup t ((e, c) ∷ es) ≡ (if t y then Some c else lookup t ((e, q) ∷ es))
at_equal t e y c q es same = ap (λ (r : Bool). if r then Some c else lookup t es) (ap t (sym same)) ∙ go (t y) refl
  where
    go : (r : Bool) → t y ≡ r → (if r then Some c else lookup t es) ≡ (if r then Some c else lookup t ((e, q) ∷ es))
    go true f = refl
    go false f = sym (ap (λ (x : Bool). if x then Some q else lookup t es) (ap t (sym same) ∙ f))

later : (t : Key → Bool) (e x : Key) (c q : Process) (es put : List (Key × Process))
    → (t e ≡ true → t x ≡ true → ⊥) → lookup t put ≡ (if t x then Some c else lookup t es)
    → lookup t ((e, q) ∷ put) ≡ (if t x then Some c else lookup t ((e, q) ∷ es))
later t e x c q es put other rest = go (t e) (t x) refl refl rest
  where
    go : (r u : Bool) → t e ≡ r → t x ≡ u → lookup t put ≡ (if u then Some c else lookup t es)
        → (if r then Some q else lookup t put) ≡ (if u then Some c else (if r then Some q else lookup t es))
    go true true f g z = absurd (other f g)
    go true false f g z = refl
    go false u f g z = z

-- The key is found by a name.
put_last : (name : Name) (es : List (Key × Process)) (w : Key) (c : Process)
    → lookup (finds (key_of name)) (insert_entry key_cmp es w c)
    ≡ (if finds (key_of name) w then Some c else lookup (finds (key_of name)) es)
put_last name [] w c = refl
put_last name (e ∷ es) w c = go (key_cmp w e.0) refl (put_last name es w c)
  where
    go : (o : Ordering) → key_cmp w e.0 ≡ o → lookup (finds (key_of name)) (insert_entry key_cmp es w c)
        ≡ (if finds (key_of name) w then Some c else lookup (finds (key_of name)) es)
        → lookup (finds (key_of name))
        (match_ordering o ((w, c) ∷ e ∷ es) ((e.0, c) ∷ es) (e ∷ insert_entry key_cmp es w c))
        ≡ (if finds (key_of name) w then Some c else lookup (finds (key_of name)) (e ∷ es))
    go Less f rest = refl
    go Equal f rest = at_equal (finds (key_of name)) e.0 w c e.1 es (found_is w e.0 (ap is_eq f))
    go Greater f rest =
        later (finds (key_of name)) e.0 w c e.1 es (insert_entry key_cmp es w c)
        (λ x y. wrong' (sym (ap is_eq f) ∙ ap (λ (z : Key). finds z e.0) (sym (found_is (key_of name) w y)) ∙ x)) rest

numbers_turned : (a b : Option ℕ) → same_number a b ≡ same_number b a
numbers_turned None None = refl
numbers_turned (Some x) (Some y) = eq_turned x y
numbers_turned None (Some y) = refl
numbers_turned (Some x) None = refl

pub nexus_turned : (a b : Name) → same_nexus a b ≡ same_nexus b a
nexus_turned a b = λ i. (eq_turned a.initiator b.initiator i && eq_turned a.target b.target i)
    && (numbers_turned a.unit b.unit i && numbers_turned a.tag b.tag i)

pub is_last : (last : List (Key × Process)) (c : Process) → IsLast last (with_last last c) c
is_last last c = λ name. put_last name last (key_of c.name) c
    ∙ ap (λ (q : Bool). if q then Some c else process_of last name) (by_key name c.name ∙ nexus_turned name c.name)
