-- Small tests of flags and numbers.
use Rattle.row_laws.proofs
use proofs.Names.{Some, ℕ, suc, ◌≡◌, ◌≤◌, ◌<◌, ◌+◌, Bool, true, false, not, ◌&&◌, ◌||◌, ◌==◌, ◌*◌, ◌∙◌, Option, None}
use proofs.Names.{refl, sym, ap, arith, nat_tests, if◌then◌else◌, wrong, wrong', falls, rises}

-- ---- what follows by cases

-- By a flag, with what it is in each case.
pub by_bool : {A : Type 0} (q : Bool) → (q ≡ true → A) → (q ≡ false → A) → A
by_bool true f g = f refl
by_bool false f g = g refl

-- By whether there is a value, with which it is.
pub by_option : {A X : Type 0} (o : Option X) → (o ≡ None → A) → ((x : X) → o ≡ Some x → A) → A
by_option None f g = f refl
by_option (Some x) f g = g x refl

-- ---- one flag

pub not_not : (q : Bool) → not (not q) ≡ q
not_not true = refl
not_not false = refl

pub none_both : (q : Bool) → (let o : Option ℕ = None in if q then o else o) ≡ None
none_both true = refl
none_both false = refl

-- ---- two flags

pub or_first : (a b : Bool) → (a || b) ≡ true → b ≡ false → a ≡ true
or_first true b z e = refl
or_first false true z e = wrong e
or_first false false z e = wrong' z

pub not_unless : (a b : Bool) → (a ≡ true → b ≡ true) → b ≡ false → a ≡ false
not_unless true b h e = wrong (sym (h refl) ∙ e)
not_unless false b h e = refl

pub falls_true : (a b : Bool) → b ≡ true → falls a b ≡ false
falls_true true b e = ap not e
falls_true false b e = refl

pub risen : (a b : Bool) → rises a b ≡ true → a ≡ false
risen true b e = wrong' e
risen false b e = refl

pub all_four : (a b c d : Bool) → a ≡ true → b ≡ true → c ≡ true → d ≡ false → (a && b && c && not d) ≡ true
all_four a b c d ea eb ec ed = λ i. ea i && eb i && ec i && not (ed i)

-- ---- numbers

pub plus_one : (a b : ℕ) → a + suc b ≡ a + 1 + b
plus_one a b = omega arith

pub zero_below : (m : ℕ) → m < 1 → m ≡ 0
zero_below m e = omega arith

pub some_count : (m : ℕ) → (m == 0) ≡ false → 1 ≤ m
some_count m e = grind (arith, nat_tests)

pub some_zero : {A : Type 0} (m : ℕ) → (m == 0) ≡ false → m ≡ 0 → A
some_zero m e z = absurd grind (arith, nat_tests)

pub less_apart : {A : Type 0} (a b : ℕ) → a < b → a ≡ b → A
less_apart a b lt e = absurd omega (arith, lt, e)

pub mul_assoc : (a b c : ℕ) → a * (b * c) ≡ a * b * c
mul_assoc a b c = grind arith

pub zero_times : (m : ℕ) → m * 0 ≡ 0
zero_times m = omega arith
