-- Of samples in order of time, the strikes that are expected are those that come sample by sample.
use Rattle.right_laws.proofs
use proofs.Names.{ℕ, ◌≡◌, ◌⊎◌, inl, inr, ◌≤◌, ◌<◌, Bool, true, false, ◌&&◌, ◌||◌, ◌==◌, ◌∙◌, List, [], ◌∷◌, ◌++◌}
use proofs.Names.{append_assoc, Option, Some, None, refl, sym, ap, subst, arith, ltb-false, nat_tests, reverse-append}
use proofs.Names.{⊤, nat_le, nat_lt, reverse, if◌then◌else◌, Kind, Drives, Fault, Row, FaultDef, Sample, Strike}
use proofs.Names.{is_sampled_before, with_sample, is_kept_by_reset, kept_samples, first_from, without_first}
use proofs.Names.{with_strike, with_first_strike, strikes_by, with_fault, faults_in_order, strike_of, row_strikes}
use proofs.Names.{flip_of, by_bool, strike_if, left_if, strikes_in_turn, faults_left}

-- ---- in order

-- No fault of these comes before this time; and each of them comes no later than those that follow.
abbrev pub AreFrom : ℕ → List FaultDef → Type 0
AreFrom time [] = ⊤
AreFrom time (f ∷ faults) = (time ≤ f.at) × AreFrom time faults

abbrev pub AreOrdered : List FaultDef → Type 0
AreOrdered [] = ⊤
AreOrdered (f ∷ faults) = AreFrom f.at faults × AreOrdered faults

-- No sample of these comes before this one; and so each of them and those that follow.
abbrev pub NoneBefore : Sample → List Sample → Type 0
NoneBefore a [] = ⊤
NoneBefore a (b ∷ samples) = (is_sampled_before b a ≡ false) × NoneBefore a samples

abbrev pub InOrder : List Sample → Type 0
InOrder [] = ⊤
InOrder (a ∷ samples) = NoneBefore a samples × InOrder samples

-- Each of these comes before this one, or is the same.
abbrev pub Precedes : Sample → Sample → Type 0
Precedes b a = (is_sampled_before b a ≡ true) ⊎ (b ≡ a)

abbrev pub AllPrecede : Sample → List Sample → Type 0
AllPrecede a [] = ⊤
AllPrecede a (b ∷ samples) = Precedes b a × AllPrecede a samples

-- ---- tests

before_self : (a : Sample) → is_sampled_before a a ≡ false
before_self a = go a.time a.dev
  where
    go : (t d : ℕ) → (nat_lt t t || (t == t && nat_lt d d)) ≡ false
    go t d = grind (arith, nat_tests)

not_before : (a b : Sample) → is_sampled_before b a ≡ true → is_sampled_before a b ≡ false
not_before a b e = go a.time b.time a.dev b.dev e
  where
    go : (t u d g : ℕ) → (nat_lt u t || (u == t && nat_lt d g)) ≡ true → (nat_lt t u || (t == u && nat_lt g d)) ≡ false
    go t u d g e = grind (arith, nat_tests)

pub after_preceding : (a b : Sample) → Precedes b a → is_sampled_before a b ≡ false
after_preceding a b (inl e) = not_before a b e
after_preceding a b (inr e) = ap (is_sampled_before a) e ∙ before_self a

pub sooner_precedes : (a b : Sample) → b.time < a.time → Precedes b a
sooner_precedes a b h = inl (go a.time b.time a.dev b.dev h)
  where
    go : (t u d g : ℕ) → u < t → (nat_lt u t || (u == t && nat_lt d g)) ≡ true
    go t u d g h = grind (arith, nat_tests)

pub same_precedes : (a b : Sample) → b.time ≤ a.time → b.dev ≡ a.dev → Precedes b a
same_precedes a b h e =
    by_bool (b.time == a.time)
    (λ z. inr (λ i. record { time = eq_is b.time a.time z i; dev = e i }))
    (λ z. sooner_precedes a b (less b.time a.time z h))
  where
    eq_is : (t u : ℕ) → (t == u) ≡ true → t ≡ u
    eq_is t u z = grind (arith, nat_tests)

    less : (t u : ℕ) → (t == u) ≡ false → t ≤ u → t < u
    less t u z h = grind (arith, nat_tests)

late : (t u v : ℕ) → nat_le t v ≡ false → t ≤ u → nat_le u v ≡ false
late t u v e h = grind (arith, nat_tests)

at_most : (t u : ℕ) → nat_lt t u ≡ true → t ≤ u
at_most t u e = grind (arith, nat_tests)

-- ---- the faults of a scenario

from_later : (t u : ℕ) (faults : List FaultDef) → t ≤ u → AreFrom u faults → AreFrom t faults
from_later t u [] h w = tt
from_later t u (f ∷ faults) h w = (omega (arith, h, w.0), from_later t u faults h w.1)

with_from : (t : ℕ) (f : FaultDef) (faults : List FaultDef) → t ≤ f.at → AreFrom t faults
    → AreFrom t (with_fault f faults)
with_from t f [] h w = (h, tt)
with_from t f (g ∷ faults) h w = go (nat_lt g.at f.at) (with_from t f faults h w.1)
  where
    go : (q : Bool) → AreFrom t (with_fault f faults)
        → AreFrom t (if q then g ∷ with_fault f faults else f ∷ g ∷ faults)
    go true r = (w.0, r)
    go false r = (h, w)

with_ordered : (f : FaultDef) (faults : List FaultDef) → AreOrdered faults → AreOrdered (with_fault f faults)
with_ordered f [] w = (tt, tt)
with_ordered f (g ∷ faults) w = go (nat_lt g.at f.at) refl (with_ordered f faults w.1)
  where
    go : (q : Bool) → nat_lt g.at f.at ≡ q → AreOrdered (with_fault f faults)
        → AreOrdered (if q then g ∷ with_fault f faults else f ∷ g ∷ faults)
    go true e r = (with_from g.at f faults (at_most g.at f.at e) w.0, r)
    go false e r = let h = ltb-false g.at f.at e in ((h, from_later f.at g.at faults h w.0), w)

pub ordered_faults : (faults : List FaultDef) → AreOrdered (faults_in_order faults)
ordered_faults [] = tt
ordered_faults (f ∷ faults) = with_ordered f (faults_in_order faults) (ordered_faults faults)

-- ---- the two agree

-- Faults that are all later than a sample leave it alone.
abbrev AreLater : ℕ → List FaultDef → Type 0
AreLater time [] = ⊤
AreLater time (f ∷ faults) = (nat_le f.at time ≡ false) × AreLater time faults

later_all : (t v : ℕ) (faults : List FaultDef) → nat_le t v ≡ false → AreFrom t faults → AreLater v faults
later_all t v [] e w = tt
later_all t v (f ∷ faults) e w = (late t f.at v e w.0, later_all t v faults e w.1)

left_alone : (a : Sample) (faults : List FaultDef) (samples : List Sample) → AreLater a.time faults
    → strikes_by faults (a ∷ samples) ≡ strikes_by faults samples
left_alone a [] samples w = refl
left_alone a (f ∷ faults) samples w = (λ i. with_first_strike (if w.0 i then Some a else first_from f.at samples) f.bit
    (strikes_by faults (if w.0 i then samples else a ∷ without_first f.at samples)))
    ∙ ap (with_first_strike (first_from f.at samples) f.bit) (left_alone a faults (without_first f.at samples) w.1)

no_samples : (faults : List FaultDef) → strikes_by faults [] ≡ []
no_samples [] = refl
no_samples (f ∷ faults) = no_samples faults

no_faults : (samples : List Sample) → strikes_in_turn [] samples ≡ []
no_faults [] = refl
no_faults (a ∷ samples) = no_faults samples

-- Each strike is of a sample.
abbrev NoStrikeBefore : Sample → List Strike → Type 0
NoStrikeBefore a [] = ⊤
NoStrikeBefore a (x ∷ strikes) = (is_sampled_before x.sample a ≡ false) × NoStrikeBefore a strikes

strikes_not_before : (a : Sample) (faults : List FaultDef) (samples : List Sample) → NoneBefore a samples
    → NoStrikeBefore a (strikes_in_turn faults samples)
strikes_not_before a faults [] w = tt
strikes_not_before a faults (b ∷ samples) w =
    go (flip_of faults b.time) (strikes_not_before a (left_if faults (flip_of faults b.time)) samples w.1)
  where
    go : (flip : Option ℕ) → NoStrikeBefore a (strikes_in_turn (left_if faults flip) samples)
        → NoStrikeBefore a (strike_if b flip ++ strikes_in_turn (left_if faults flip) samples)
    go None r = r
    go (Some bit) r = (w.0, r)

first_strike : (x : Strike) (strikes : List Strike) → NoStrikeBefore x.sample strikes
    → with_strike x strikes ≡ x ∷ strikes
first_strike x [] w = refl
first_strike x (l ∷ strikes) w = λ i. if w.0 i then l ∷ with_strike x strikes else x ∷ l ∷ strikes

pub in_turn : (faults : List FaultDef) (samples : List Sample) → AreOrdered faults → InOrder samples
    → strikes_by faults samples ≡ strikes_in_turn faults samples
in_turn faults [] o w = no_samples faults
in_turn [] (a ∷ samples) o w = sym (no_faults samples)
in_turn (f ∷ faults) (a ∷ samples) o w =
    go (nat_le f.at a.time) refl (in_turn faults samples o.1 w.1) (in_turn (f ∷ faults) samples o w.1)
  where
    struck : strikes_by faults samples ≡ strikes_in_turn faults samples
        → with_strike (record { sample = a; bit = f.bit }) (strikes_by faults samples)
        ≡ record { sample = a; bit = f.bit } ∷ strikes_in_turn faults samples
    struck r = ap (with_strike (record { sample = a; bit = f.bit })) r
        ∙ first_strike (record { sample = a; bit = f.bit }) (strikes_in_turn faults samples)
        (strikes_not_before a faults samples w.0)

    go : (q : Bool) → nat_le f.at a.time ≡ q → strikes_by faults samples ≡ strikes_in_turn faults samples
        → strikes_by (f ∷ faults) samples ≡ strikes_in_turn (f ∷ faults) samples
        → strikes_by (f ∷ faults) (a ∷ samples) ≡ strikes_in_turn (f ∷ faults) (a ∷ samples)
    go true e r t = (λ i. with_first_strike (if e i then Some a else first_from f.at samples) f.bit
        (strikes_by faults (if e i then samples else a ∷ without_first f.at samples)))
        ∙ struck r ∙ (λ i. strike_if a (if sym e i then Some f.bit else None)
        ++ strikes_in_turn (left_if (f ∷ faults) (if sym e i then Some f.bit else None)) samples)
    go false e r t = left_alone a (f ∷ faults) samples (e, later_all f.at a.time faults e o.0) ∙ t
        ∙ (λ i. strike_if a (if sym e i then Some f.bit else None)
        ++ strikes_in_turn (left_if (f ∷ faults) (if sym e i then Some f.bit else None)) samples)

-- ---- one more sample

pub strikes_on : (faults : List FaultDef) (samples : List Sample) (a : Sample)
    → strikes_in_turn faults (samples ++ a ∷ [])
    ≡ strikes_in_turn faults samples ++ strike_if a (flip_of (faults_left faults samples) a.time)
strikes_on faults [] a = go (flip_of faults a.time)
  where
    go : (flip : Option ℕ) → strike_if a flip ++ [] ≡ strike_if a flip
    go None = refl
    go (Some bit) = refl
strikes_on faults (b ∷ samples) a = ap (λ (x : List Strike). strike_if b (flip_of faults b.time) ++ x)
    (strikes_on (left_if faults (flip_of faults b.time)) samples a)
    ∙ sym (append_assoc (strike_if b (flip_of faults b.time))
    (strikes_in_turn (left_if faults (flip_of faults b.time)) samples)
    (strike_if a (flip_of (faults_left (left_if faults (flip_of faults b.time)) samples) a.time)))

pub left_on : (faults : List FaultDef) (samples : List Sample) (a : Sample) → faults_left faults (samples ++ a ∷ [])
    ≡ left_if (faults_left faults samples) (flip_of (faults_left faults samples) a.time)
left_on faults [] a = refl
left_on faults (b ∷ samples) a = left_on (left_if faults (flip_of faults b.time)) samples a

-- ---- a sample that comes after all the others

all_same : (a : Sample) (samples : List Sample) → NoneBefore a samples → AllPrecede a samples
    → a ∷ samples ≡ samples ++ a ∷ []
all_same a [] h w = refl
all_same a (b ∷ samples) h w =
    let same : b ≡ a = is w.0 in
    (λ i. sym same i ∷ b ∷ samples) ∙ (λ i. b ∷ same i ∷ samples)
    ∙ ap (λ (x : List Sample). b ∷ x) (all_same a samples h.1 w.1)
  where
    is : Precedes b a → b ≡ a
    is (inl e) = absurd (true_false (sym e ∙ h.0))
      where
        true_false : true ≡ false → ⊥
        true_false z = absurd cc
    is (inr e) = e

none_at : (a b : Sample) (samples : List Sample) → b ≡ a → NoneBefore b samples → NoneBefore a samples
none_at a b samples e w = subst (λ (x : Sample). NoneBefore x samples) e w

pub last_sample : (a : Sample) (samples : List Sample) → InOrder samples → AllPrecede a samples
    → with_sample a samples ≡ samples ++ a ∷ []
last_sample a [] o w = refl
last_sample a (b ∷ samples) o w = go w.0 (last_sample a samples o.1 w.1)
  where
    go : Precedes b a → with_sample a samples ≡ samples ++ a ∷ [] → with_sample a (b ∷ samples) ≡ b ∷ samples ++ a ∷ []
    go (inl e) r = (λ i. if e i then b ∷ with_sample a samples else a ∷ b ∷ samples) ∙ ap (λ (x : List Sample). b ∷ x) r
    go (inr e) r =
        (λ i. if (ap (λ (x : Sample). is_sampled_before x a) e ∙ before_self a) i then b ∷ with_sample a samples
        else a ∷ b ∷ samples)
        ∙ all_same a (b ∷ samples)
        (ap (λ (x : Sample). is_sampled_before x a) e ∙ before_self a, none_at a b samples e o.0) w

none_before_last : (b a : Sample) (samples : List Sample) → NoneBefore b samples → Precedes b a
    → NoneBefore b (samples ++ a ∷ [])
none_before_last b a [] e w = (after_preceding a b w, tt)
none_before_last b a (c ∷ samples) e w = (e.0, none_before_last b a samples e.1 w)

pub in_order_last : (a : Sample) (samples : List Sample) → InOrder samples → AllPrecede a samples
    → InOrder (samples ++ a ∷ [])
in_order_last a [] o w = (tt, tt)
in_order_last a (b ∷ samples) o w = (none_before_last b a samples o.0 w.0, in_order_last a samples o.1 w.1)

-- ---- RST

abbrev pub AreKept : Row → List Sample → Type 0
AreKept row [] = ⊤
AreKept row (a ∷ samples) = (is_kept_by_reset row a ≡ true) × AreKept row samples

pub kept_last : (row : Row) (a : Sample) (samples : List Sample) → AreKept row samples
    → kept_samples row (samples ++ a ∷ []) ≡ samples ++ (if is_kept_by_reset row a then a ∷ [] else [])
kept_last row a [] w = refl
kept_last row a (b ∷ samples) w =
    (λ i. if w.0 i then b ∷ kept_samples row (samples ++ a ∷ []) else kept_samples row (samples ++ a ∷ []))
    ∙ ap (λ (x : List Sample). b ∷ x) (kept_last row a samples w.1)

pub kept_all : (row : Row) (samples : List Sample) → AreKept row samples → kept_samples row samples ≡ samples
kept_all row [] w = refl
kept_all row (b ∷ samples) w = (λ i. if w.0 i then b ∷ kept_samples row samples else kept_samples row samples)
    ∙ ap (λ (x : List Sample). b ∷ x) (kept_all row samples w.1)

-- ---- the rows

strike_first : (row : Row) (kind : Kind) (x y : List Strike) → strike_of row kind (x ++ y) ≡ strike_of row kind x ++ y
strike_first row (Drives lines) x y = refl
strike_first row (Fault bit) x y = refl

row_strikes_last : (rows : List Row) (row : Row)
    → row_strikes (rows ++ row ∷ []) ≡ row_strikes rows ++ strike_of row row.kind []
row_strikes_last [] row = refl
row_strikes_last (r ∷ rows) row = ap (strike_of r r.kind) (row_strikes_last rows row)
    ∙ strike_first r r.kind (row_strikes rows) (strike_of row row.kind [])

pub row_strikes_on : (row : Row) (rows : List Row)
    → row_strikes (reverse (row ∷ rows)) ≡ row_strikes (reverse rows) ++ strike_of row row.kind []
row_strikes_on row rows = ap row_strikes (reverse-append (row ∷ []) rows) ∙ row_strikes_last (reverse rows) row
