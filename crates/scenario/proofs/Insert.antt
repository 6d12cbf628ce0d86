-- A block more in the set of the fills, and the counts of the loads at the start.
use Rattle.std.proofs.Common.{◌≡◌, ◌≤◌, ◌<◌, ℕ, ◌+◌, ◌*◌, ◌/◌, ◌%◌, ◌^◌, Bool, true, false, ◌||◌, ◌&&◌, List, [], ◌∷◌}
use Rattle.std.proofs.Common.{◌++◌, refl, sym, ap, ◌∙◌}
use Rattle.std.proofs.Common.{arith}
use Rattle.std.specs.Prelude.{◌==◌, replicate}
use Rattle.std.specs.List.{All, list_any}
use Rattle.std.proofs.lemmas.List.Elements.{All-head, All-tail}
use Rattle.std.specs.BTreeSet.{insert_key}
use Rattle.std.specs.declared.cmp.Ordering.{Ordering}
use Rattle.std.specs.declared.cmp.Ordering.TheVariants.{Less, Equal, Greater}
use Rattle.std.specs.Ordering.{match_ordering, nat_cmp, is_lt}
use Rattle.std.proofs.lemmas.Bool.{and_parts, eqb-true, eq-eqb, ne_eqb}
use Rattle.std.proofs.lemmas.Map.Keys.{ge_from_not_lt}
use Rattle.std.proofs.lemmas.Map.Lookups.{CmpEqualImpliesEq}
use Rattle.std.proofs.lemmas.Nat.{div-mul-add, mod-mul-add}
use Rattle.std.proofs.lemmas.List.Folds.{list_any-append}
use Rattle.scenario.specs.declared.value.FillDef.{FillDef as Fill}
use Rattle.std.proofs.lemmas.List.{get_or-replicate}
use Rattle.scenario.specs.Value.{ScenarioValue, nothing_said}
use Rattle.scenario.specs.Index.{IsCountOf, block_number}
use Rattle.scenario.specs.Lookups.{has_fill, loads_at}
use Rattle.bus_base.proofs.Tests.{or_swapped}

again : (b c : Bool) → (b || c) ≡ (b || (b || c))
again true c = refl
again false c = refl

insert_step : {K : Type 0} (p : K → Bool) (cmp : K → K → Ordering) → CmpEqualImpliesEq cmp
    → (k x : K) (xs : List K) (o : Ordering) → cmp k x ≡ o → list_any p (insert_key cmp xs k) ≡ (p k || list_any p xs)
    → list_any p (match_ordering o (k ∷ x ∷ xs) (x ∷ xs) (x ∷ insert_key cmp xs k)) ≡ (p k || (p x || list_any p xs))
insert_step p cmp exact k x xs Less e ih = refl
insert_step p cmp exact k x xs Equal e ih =
    let same : p k ≡ p x = ap p (exact k x e) in
    rw same (again (p x) (list_any p xs))
insert_step p cmp exact k x xs Greater e ih = ap (λ (b : Bool). p x || b) ih ∙ or_swapped (p x) (p k) (list_any p xs)

-- A key more in a set: one of the keys passes, or one did before.
pub any-insert_key : {K : Type 0} (p : K → Bool) (cmp : K → K → Ordering) → CmpEqualImpliesEq cmp
    → (k : K) (xs : List K) → list_any p (insert_key cmp xs k) ≡ (p k || list_any p xs)
any-insert_key p cmp exact k [] = refl
any-insert_key p cmp exact k (x ∷ xs) = insert_step p cmp exact k x xs (cmp k x) refl (any-insert_key p cmp exact k xs)

-- Blocks of the same number are the same.
parted : (a b c t u l : ℕ) → b < 8 → u < 8 → c < 2 ^ 32 → l < 2 ^ 32 → block_number a b c ≡ block_number t u l
    → (a ≡ t) × (b ≡ u) × (c ≡ l)
parted a b c t u l b8 u8 cs ls e =
    let units : a * 8 + b ≡ t * 8 + u = sym (div-mul-add (a * 8 + b) (2 ^ 32) c cs)
    ∙ ap (λ (n : ℕ). n / 2 ^ 32) e ∙ div-mul-add (t * 8 + u) (2 ^ 32) l ls in
    let target : a ≡ t = sym (div-mul-add a 8 b b8) ∙ ap (λ (n : ℕ). n / 8) units ∙ div-mul-add t 8 u u8 in
    let unit : b ≡ u = sym (mod-mul-add a 8 b b8) ∙ ap (λ (n : ℕ). n % 8) units ∙ mod-mul-add t 8 u u8 in
    let lba : c ≡ l = sym (mod-mul-add (a * 8 + b) (2 ^ 32) c cs)
    ∙ ap (λ (n : ℕ). n % 2 ^ 32) e ∙ mod-mul-add (t * 8 + u) (2 ^ 32) l ls in
    (target, unit, lba)

both_ways : (p q : Bool) → (p ≡ true → q ≡ true) → (q ≡ true → p ≡ true) → p ≡ q
both_ways true q f g = sym (f refl)
both_ways false true f g = g refl
both_ways false false f g = refl

pub number_same : (a b c t u l : ℕ) → b < 8 → u < 8 → c < 2 ^ 32 → l < 2 ^ 32
    → (block_number a b c == block_number t u l) ≡ ((a == t && b == u) && c == l)
number_same a b c t u l b8 u8 cs ls =
    both_ways (block_number a b c == block_number t u l) ((a == t && b == u) && c == l)
    (λ e. let same = parted a b c t u l b8 u8 cs ls (eqb-true _ _ e) in
    rw (eq-eqb a t same.0, eq-eqb b u same.1, eq-eqb c l same.2) refl)
    (λ e. let outer = and_parts (a == t && b == u) (c == l) e in
    let inner = and_parts (a == t) (b == u) outer.0 in
    eq-eqb _ _ (ap (λ (n : ℕ). block_number n b c) (eqb-true a t inner.0)
    ∙ ap (λ (n : ℕ). block_number t n c) (eqb-true b u inner.1)
    ∙ ap (λ (n : ℕ). block_number t u n) (eqb-true c l outer.1)))

-- A number above all numbers of a list is not in it.
pub none_above : (last number : ℕ) → last < number → (ks : List ℕ) → All (λ k. is_lt (nat_cmp last k) ≡ false) ks
    → list_any (λ k. k == number) ks ≡ false
none_above last number lt [] all = refl
none_above last number lt (k ∷ ks) all =
    let low : k ≤ last =
    ge_from_not_lt last k (All-head (λ (q : ℕ). is_lt (nat_cmp last q) ≡ false) k ks all) in
    rw (ne_eqb k number (λ e. absurd (omega arith)))
    (none_above last number lt ks (All-tail (λ (q : ℕ). is_lt (nat_cmp last q) ≡ false) k ks all))

or_last : (a b : Bool) → (a || b) ≡ (b || (a || false))
or_last true true = refl
or_last true false = refl
or_last false true = refl
or_last false false = refl

-- A fill more in the list.
pub has-push : (fills : List Fill) (f : Fill) (t u l : ℕ)
    → has_fill (fills ++ f ∷ []) t u l ≡ (((f.target == t && f.unit == u) && f.lba == l) || has_fill fills t u l)
has-push fills f t u l = list_any-append (λ (g : Fill). (g.target == t && g.unit == u) && g.lba == l) fills (f ∷ [])
    ∙ sym (or_last ((f.target == t && f.unit == u) && f.lba == l) (has_fill fills t u l))

-- No tape has an object before the first line.
pub none_loaded : (s : ScenarioValue) → s ≡ nothing_said → IsCountOf (replicate 64 0) s.loads
none_loaded s e = λ t u target unit. get_or-replicate 64 (t * 8 + u) 0 0 (omega arith)
    ∙ sym (ap (λ (v : ScenarioValue). loads_at v.loads t u) e)
