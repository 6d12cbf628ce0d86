-- Tables of agreements.
use Rattle.std.proofs.Common.{ℕ, ◌≡◌, ◌≤◌, ◌+◌, ◌*◌, Bool, true, false, replicate, refl, sym, ap, ◌∙◌, arith}
use Rattle.std.specs.Prelude.{◌==◌, ◌&&◌, nat_lt, if◌then◌else◌}
use Rattle.std.proofs.lemmas.Bool.Decides.{nat_tests}
use Rattle.std.proofs.lemmas.List.{get_or-replicate}
use Rattle.bus_trace.specs.declared.agreements.Agreement.{Agreement}
use Rattle.bus_phases.specs.declared.agreements.Agreements.{Agreements}
use Rattle.bus_phases.specs.Dialogue.{asynchronous}
use Rattle.bus_phases.specs.Tables.{AreAgreements}

-- no agreement yet
pub all_asynchronous : AreAgreements (λ i t. asynchronous)
    (record { periods = replicate 64 0; offsets = replicate 64 0 })
all_asynchronous i t hi ht =
    (get_or-replicate 64 (i * 8 + t) 0 0 (omega arith), get_or-replicate 64 (i * 8 + t) 0 0 (omega arith))

-- the same agreements, said otherwise
pub agreeing : (f g : ℕ → ℕ → Agreement) (a : Agreements) → ((i t : ℕ) → f i t ≡ g i t) → AreAgreements f a
    → AreAgreements g a
agreeing f g a same h i t hi ht =
    let two = h i t hi ht in
    (two.0 ∙ ap (λ (x : Agreement). x.period) (same i t), two.1 ∙ ap (λ (x : Agreement). x.offset) (same i t))

-- one initiator more
same_more : (f : ℕ → ℕ → Agreement) (target n i t : ℕ)
    → (if i == n && t == target then asynchronous else if t == target && nat_lt i n then asynchronous else f i t)
    ≡ (if t == target && nat_lt i (n + 1) then asynchronous else f i t)
same_more f target n i t = grind (arith, nat_tests)

pub one_more : (f : ℕ → ℕ → Agreement) (target n m : ℕ) (x : Agreement) (a : Agreements) → m ≡ n → x ≡ asynchronous
    → AreAgreements
    (λ i t. if i == m && t == target then x else if t == target && nat_lt i n then asynchronous else f i t) a
    → AreAgreements (λ i t. if t == target && nat_lt i (n + 1) then asynchronous else f i t) a
one_more f target n m x a same e h = agreeing
    (λ i t. if i == m && t == target then x else if t == target && nat_lt i n then asynchronous else f i t)
    (λ i t. if t == target && nat_lt i (n + 1) then asynchronous else f i t) a
    (λ i t. (λ j. if i == same j && t == target then e j else if t == target && nat_lt i n then asynchronous else f i t)
    ∙ same_more f target n i t) h

-- all of them
pub all_eight : (f : ℕ → ℕ → Agreement) (a : Agreements) (target n : ℕ) → 8 ≤ n
    → AreAgreements (λ i t. if t == target && nat_lt i n then asynchronous else f i t) a
    → AreAgreements (λ i t. if t == target then asynchronous else f i t) a
all_eight f a target n e h i t hi ht =
    let two = h i t hi ht in
    let below : nat_lt i n ≡ true = grind (arith, nat_tests) in
    let same : (if t == target && nat_lt i n then asynchronous else f i t)
    ≡ (if t == target then asynchronous else f i t) = rw below (go (t == target)) in
    (two.0 ∙ ap (λ (x : Agreement). x.period) same, two.1 ∙ ap (λ (x : Agreement). x.offset) same)
  where
    go : (q : Bool) → (if q && true then asynchronous else f i t) ≡ (if q then asynchronous else f i t)
    go true = refl
    go false = refl

-- a reset that comes, and one that does not
pub and_true : (q : Bool) (x y : Agreement) → (if q then x else y) ≡ (if q && true then x else y)
and_true true x y = refl
and_true false x y = refl

pub and_false : (q : Bool) (x y : Agreement) → y ≡ (if q && false then x else y)
and_false true x y = refl
and_false false x y = refl

pub reset_comes : (f : ℕ → ℕ → Agreement) (target : ℕ) (now : Bool) (a : Agreements)
    → now ≡ true → AreAgreements (λ i t. if t == target then asynchronous else f i t) a
    → AreAgreements (λ i t. if t == target && now then asynchronous else f i t) a
reset_comes f target now a e h = agreeing (λ i t. if t == target then asynchronous else f i t)
    (λ i t. if t == target && now then asynchronous else f i t) a (λ i t. and_true (t == target) asynchronous (f i t)
    ∙ (λ j. if t == target && sym e j then asynchronous else f i t)) h

pub no_reset : (f : ℕ → ℕ → Agreement) (target : ℕ) (now : Bool) (a : Agreements) → now ≡ false → AreAgreements f a
    → AreAgreements (λ i t. if t == target && now then asynchronous else f i t) a
no_reset f target now a e h = agreeing f (λ i t. if t == target && now then asynchronous else f i t) a (λ i t.
    and_false (t == target) asynchronous (f i t) ∙ (λ j. if t == target && sym e j then asynchronous else f i t)) h
