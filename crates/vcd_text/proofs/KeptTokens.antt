-- The bytes that are kept of a token stand for it.
use Rattle.std.proofs.Common.{◌≡◌, ℕ, ◌+◌, ◌<◌, ◌≤◌, Bool, true, false, ◌&&◌, get_or, List, [], ◌∷◌, ◌++◌, length, take}
use Rattle.std.proofs.Common.{drop, append_assoc, refl, sym, ap, ◌∙◌, arith, None, Option}
use Rattle.std.specs.Prelude.{remove, slice_index, ◌==◌, if◌then◌else◌, IfOk, Result, Ok, Err}
use Rattle.std.specs.declared.alloc.AllocError.{AllocError}
use Rattle.std.proofs.lemmas.List.{length-append, take_more, take-append-drop}
use Rattle.vcd_text.specs.declared.awaits.Awaits.{Awaits}
use Rattle.vcd_text.specs.declared.awaits.Awaits.TheVariants.{VarWidth, Change}
use Rattle.vcd_text.specs.declared.dump.Dump.{Dump}
use Rattle.vcd_text.specs.declared.kept.Tail.{Tail}
use Rattle.vcd_text.specs.declared.kept.Tail.TheVariants.{Any, States, Digits}
use Rattle.vcd_text.specs.KeptDigits.{DigitKept}
use Rattle.vcd_text.specs.Tokens.{is_printable, is_token, is_state, is_letter, decimal_of, after_width}
use Rattle.vcd_text.specs.Steps.{going, timed, changed, step_by, step}
use Rattle.vcd_text.specs.Kept.{token_made, StandsFor, Breaks, Keeps, token_limit, is_new_code, tail_of}
use Rattle.vcd_text.proofs.LongTokens.{all_drop, all_dead, Passes, step_drop, changed_dead, zero_in_front, long_number}

-- ---- what a token makes, by whether all its bytes may stand in one

made_same : (d : Dump) (x y : List ℕ) → 0 < length x → 0 < length y → is_token x ≡ is_token y → step d x ≡ step d y
    → token_made d x ≡ token_made d y
made_same d [] y h k tokens steps = absurd (omega (arith, h))
made_same d (a ∷ x) [] h k tokens steps = absurd (omega (arith, k))
made_same d (a ∷ x) (b ∷ y) h k tokens steps = λ i. if tokens i then steps i else None

either_none : (q : Bool) (o : Option Dump) → o ≡ None → (if q then o else None) ≡ None
either_none true o is = is
either_none false o is = refl

made_none : (d : Dump) (x : List ℕ) → 0 < length x → step d x ≡ None → token_made d x ≡ None
made_none d [] h none = absurd (omega (arith, h))
made_none d (a ∷ x) h none = either_none (is_token (a ∷ x)) (step d (a ∷ x)) none

made_no_token : (d : Dump) (x : List ℕ) → 0 < length x → is_token x ≡ false → token_made d x ≡ None
made_no_token d [] h broken = absurd (omega (arith, h))
made_no_token d (a ∷ x) h broken = ap (λ (q : Bool). if q then step d (a ∷ x) else None) broken

joined : (w : List ℕ) (b : ℕ) (rest : List ℕ) → (w ++ b ∷ []) ++ rest ≡ w ++ b ∷ rest
joined w b rest = append_assoc w (b ∷ []) rest

longer : (w : List ℕ) (b : ℕ) (rest : List ℕ) → 0 < length (w ++ b ∷ rest)
longer [] b rest = omega arith
longer (x ∷ w) b rest = omega arith

-- ---- a byte more

pub stands_itself : (d : Dump) (k t : List ℕ) → k ≡ t → StandsFor d k t
stands_itself d k t same rest = ap (λ (x : List ℕ). token_made d (x ++ rest)) same

pub unprintable_breaks : (d : Dump) (w : List ℕ) (b : ℕ) → is_printable b ≡ false → Breaks d (w ++ b ∷ [])
unprintable_breaks d w b broken rest = ap (token_made d) (joined w b rest)
    ∙ made_no_token d (w ++ b ∷ rest) (longer w b rest) (all_dead is_printable w b rest broken)

pub pass_kept : (d : Dump) (w : List ℕ) (b : ℕ) → is_new_code d.awaits ≡ false → token_limit d ≤ length w
    → Passes (tail_of d.awaits w) b → is_printable b ≡ true → StandsFor d w (w ++ b ∷ [])
pass_kept d w b told long pass printable rest =
    made_same d (w ++ rest) (w ++ b ∷ rest) (omega (arith, length-append w rest)) (longer w b rest)
    (sym (all_drop is_printable w b rest printable)) (sym (step_drop d.awaits d w b rest told long pass))
    ∙ ap (token_made d) (sym (joined w b rest))

-- ---- a value

letter_of : (q l : Bool) → (if q then Digits 1 else if l then States else Any) ≡ States → l ≡ true
letter_of true l is = cc
letter_of false true is = refl
letter_of false false is = cc

states_dead : (a : Awaits) (d : Dump) (w : List ℕ) (b : ℕ) (rest : List ℕ) → tail_of a w ≡ States → is_state b ≡ false
    → step_by a d (w ++ b ∷ rest) ≡ None
states_dead Change d [] b rest is bad = cc
states_dead Change d (first ∷ w) b rest is bad =
    changed_dead d first w b rest (letter_of (first == 35) (is_letter 98 66 first) is) bad
states_dead a d w b rest is bad = cc

pub state_breaks : (d : Dump) (w : List ℕ) (b : ℕ) → tail_of d.awaits w ≡ States → is_state b ≡ false
    → Breaks d (w ++ b ∷ [])
state_breaks d w b is bad rest = ap (token_made d) (joined w b rest)
    ∙ made_none d (w ++ b ∷ rest) (longer w b rest) (states_dead d.awaits d w b rest is bad)

-- ---- a number

time_of : (q l : Bool) (at : ℕ) → (if q then Digits 1 else if l then States else Any) ≡ Digits at
    → (q ≡ true) × (at ≡ 1)
time_of true l at is = (refl, cc)
time_of false true at is = cc
time_of false false at is = cc

timed_only : (d : Dump) (first : ℕ) (digits : List ℕ) → (first == 35) ≡ true
    → changed d (first ∷ digits) ≡ timed d (decimal_of digits)
timed_only d first digits is = cond_true (first == 35) _ _ is where
  cond_true : (q : Bool) (x y : Option Dump) → q ≡ true → (if q then x else y) ≡ x
  cond_true true x y e = refl
  cond_true false x y e = cc

-- without the zero in front
digits_same : (a : Awaits) (d : Dump) (w : List ℕ) (at : ℕ) (rest : List ℕ)
    → tail_of a w ≡ Digits at → slice_index w at ≡ 48 → 3 ≤ length w
    → (step_by a d (remove w at ++ rest) ≡ step_by a d (w ++ rest))
    × (is_token (remove w at ++ rest) ≡ is_token (w ++ rest))
digits_same VarWidth d [] at rest is zero long = absurd (omega (arith, long))
digits_same VarWidth d (x ∷ w) at rest is zero long = go at (cc) zero where
  go : (at : ℕ) → at ≡ 0 → slice_index (x ∷ w) at ≡ 48
      → (step_by VarWidth d (remove (x ∷ w) at ++ rest) ≡ step_by VarWidth d ((x ∷ w) ++ rest))
      × (is_token (remove (x ∷ w) at ++ rest) ≡ is_token ((x ∷ w) ++ rest))
  go at none zero =
      let is : x ≡ 48 = ap (λ (k : ℕ). slice_index (x ∷ w) k) (sym none) ∙ zero in
      let out : remove (x ∷ w) at ≡ w = ap (remove (x ∷ w)) none in
      let some : 0 < length (w ++ rest) = omega (arith, long, length-append w rest) in (
        ap (λ (y : List ℕ). going d (after_width (decimal_of (y ++ rest)))) out
            ∙ ap (λ (o : Option ℕ). going d (after_width o)) (sym (zero_in_front (w ++ rest) some))
            ∙ ap (λ (y : ℕ). going d (after_width (decimal_of (y ∷ w ++ rest)))) (sym is),
        ap (λ (y : List ℕ). is_token (y ++ rest)) out ∙ ap (λ (y : ℕ). is_printable y && is_token (w ++ rest)) (sym is),
      )
digits_same Change d [] at rest is zero long = absurd (omega (arith, long))
digits_same Change d (first ∷ []) at rest is zero long = absurd (omega (arith, long))
digits_same Change d (first ∷ x ∷ w) at rest is zero long =
    go at (time_of (first == 35) (is_letter 98 66 first) at is) zero
  where
    go : (at : ℕ) → ((first == 35) ≡ true) × (at ≡ 1) → slice_index (first ∷ x ∷ w) at ≡ 48
        → (step_by Change d (remove (first ∷ x ∷ w) at ++ rest) ≡ step_by Change d ((first ∷ x ∷ w) ++ rest))
        × (is_token (remove (first ∷ x ∷ w) at ++ rest) ≡ is_token ((first ∷ x ∷ w) ++ rest))
    go at (hash, one) zero =
        let is : x ≡ 48 = ap (λ (k : ℕ). slice_index (first ∷ x ∷ w) k) (sym one) ∙ zero in
        let out : remove (first ∷ x ∷ w) at ≡ first ∷ w = ap (remove (first ∷ x ∷ w)) one in
        let some : 0 < length (w ++ rest) = omega (arith, long, length-append w rest) in (
          ap (λ (y : List ℕ). changed d (y ++ rest)) out ∙ timed_only d first (w ++ rest) hash
              ∙ ap (timed d) (sym (zero_in_front (w ++ rest) some))
              ∙ ap (λ (y : ℕ). timed d (decimal_of (y ∷ w ++ rest))) (sym is)
              ∙ sym (timed_only d first (x ∷ w ++ rest) hash),
          ap (λ (y : List ℕ). is_token (y ++ rest)) out
              ∙ ap (λ (y : ℕ). is_printable first && (is_printable y && is_token (w ++ rest))) (sym is),
        )
digits_same a d w at rest is zero long = cc

pub digit_kept : (d : Dump) (w new : List ℕ) (at b : ℕ) → tail_of d.awaits w ≡ Digits at → token_limit d ≤ length w
    → DigitKept true at w new b → StandsFor d new (w ++ b ∷ [])
digit_kept d w new at b is long (zero, now) rest =
    let same = digits_same d.awaits d w at (b ∷ rest) is zero (omega (arith, long)) in
    ap (λ (x : List ℕ). token_made d (x ++ rest)) now ∙ ap (token_made d) (joined (remove w at) b rest) ∙ made_same d
    (remove w at ++ b ∷ rest) (w ++ b ∷ rest) (longer (remove w at) b rest) (longer w b rest) same.1 same.0
    ∙ ap (token_made d) (sym (joined w b rest))

-- no zero in front, and too many digits
digits_dead : (a : Awaits) (d : Dump) (w : List ℕ) (at : ℕ) (rest : List ℕ) → tail_of a w ≡ Digits at
    → (slice_index w at ≡ 48 → ⊥) → 24 ≤ length w → step_by a d (w ++ rest) ≡ None
digits_dead VarWidth d [] at rest is zero long = absurd (omega (arith, long))
digits_dead VarWidth d (x ∷ w) at rest is zero long =
    let none : at ≡ 0 = cc in
    let not_zero : x ≡ 48 → ⊥ = λ e. zero (ap (λ (k : ℕ). slice_index (x ∷ w) k) none ∙ e) in
    ap (λ (o : Option ℕ). going d (after_width o))
    (long_number x (w ++ rest) not_zero (omega (arith, long, length-append w rest)))
digits_dead Change d [] at rest is zero long = absurd (omega (arith, long))
digits_dead Change d (first ∷ []) at rest is zero long = absurd (omega (arith, long))
digits_dead Change d (first ∷ x ∷ w) at rest is zero long =
    let time = time_of (first == 35) (is_letter 98 66 first) at is in
    let not_zero : x ≡ 48 → ⊥ = λ e. zero (ap (λ (k : ℕ). slice_index (first ∷ x ∷ w) k) time.1 ∙ e) in
    timed_only d first (x ∷ w ++ rest) time.0
    ∙ ap (timed d) (long_number x (w ++ rest) not_zero (omega (arith, long, length-append w rest)))
digits_dead a d w at rest is zero long = cc

pub digit_breaks : (d : Dump) (w : List ℕ) (at b : ℕ) → tail_of d.awaits w ≡ Digits at → token_limit d ≤ length w
    → (slice_index w at ≡ 48 → ⊥) → Breaks d (w ++ b ∷ [])
digit_breaks d w at b is long zero rest = ap (token_made d) (joined w b rest) ∙ made_none d (w ++ b ∷ rest)
    (longer w b rest) (digits_dead d.awaits d w at (b ∷ rest) is zero (omega (arith, long)))

-- a number has its place in the token
pub digits_within : (a : Awaits) (w : List ℕ) (at : ℕ) → tail_of a w ≡ Digits at → at ≤ 1
digits_within VarWidth w at is = let none : at ≡ 0 = cc in omega (arith, none)
digits_within Change [] at is = cc
digits_within Change (first ∷ w) at is =
    let time = time_of (first == 35) (is_letter 98 66 first) at is in
    omega (arith, time.1)
digits_within a w at is = cc

pub digit_keeps : (ok : Bool) (d : Dump) (w new : List ℕ) (at b : ℕ) → tail_of d.awaits w ≡ Digits at
    → token_limit d ≤ length w → DigitKept ok at w new b → Keeps ok d new (w ++ b ∷ [])
digit_keeps true d w new at b is long kept = digit_kept d w new at b is long kept
digit_keeps false d w new at b is long kept = digit_breaks d w at b is long kept.0

pub digit_result : (r : Result Bool AllocError) (d : Dump) (w new : List ℕ) (at b : ℕ) → tail_of d.awaits w ≡ Digits at
    → token_limit d ≤ length w → IfOk r (λ ok. DigitKept ok at w new b) → IfOk r (λ ok. Keeps ok d new (w ++ b ∷ []))
digit_result (Ok ok) d w new at b is long kept = digit_keeps ok d w new at b is long kept
digit_result (Err e) d w new at b is long kept = tt

pub state_keeps : (ok : Bool) (d : Dump) (w : List ℕ) (b : ℕ) → is_new_code d.awaits ≡ false → token_limit d ≤ length w
    → is_printable b ≡ true → tail_of d.awaits w ≡ States → ok ≡ is_state b → Keeps ok d w (w ++ b ∷ [])
state_keeps true d w b told long printable is state =
    pass_kept d w b told long (passes (tail_of d.awaits w) is) printable
  where
    passes : (t : Tail) → t ≡ States → Passes t b
    passes States e = sym state
    passes Any e = cc
    passes (Digits at) e = cc
state_keeps false d w b told long printable is state = state_breaks d w b is (sym state)

pub any_keeps : (d : Dump) (w : List ℕ) (b : ℕ) → is_new_code d.awaits ≡ false → token_limit d ≤ length w
    → is_printable b ≡ true → tail_of d.awaits w ≡ Any → Keeps true d w (w ++ b ∷ [])
any_keeps d w b told long printable is = pass_kept d w b told long (passes (tail_of d.awaits w) is) printable where
  passes : (t : Tail) → t ≡ Any → Passes t b
  passes Any e = tt
  passes States e = cc
  passes (Digits at) e = cc

-- ---- some bytes more

pub stands_more : (d : Dump) (k n t text : List ℕ) (i b e : ℕ) → i < length text → b ≡ get_or text i e
    → StandsFor d k (t ++ take i text) → StandsFor d n (k ++ b ∷ []) → StandsFor d n (t ++ take (i + 1) text)
stands_more d k n t text i b e below at before now rest =
    let more : t ++ take (i + 1) text ≡ (t ++ take i text) ++ b ∷ [] =
    ap (λ (x : List ℕ). t ++ x) (take_more text i e below ∙ ap (λ (y : ℕ). take i text ++ y ∷ []) (sym at))
    ∙ sym (append_assoc t (take i text) (b ∷ [])) in
    now rest ∙ ap (token_made d) (joined k b rest) ∙ before (b ∷ rest)
    ∙ ap (token_made d) (sym (joined (t ++ take i text) b rest))
    ∙ ap (λ (x : List ℕ). token_made d (x ++ rest)) (sym more)

pub breaks_more : (d : Dump) (k t text : List ℕ) (i b e : ℕ) → i < length text → b ≡ get_or text i e
    → StandsFor d k (t ++ take i text) → Breaks d (k ++ b ∷ []) → Breaks d (t ++ text)
breaks_more d k t text i b e below at before broken rest =
    let more : t ++ take (i + 1) text ≡ (t ++ take i text) ++ b ∷ [] =
    ap (λ (x : List ℕ). t ++ x) (take_more text i e below ∙ ap (λ (y : ℕ). take i text ++ y ∷ []) (sym at))
    ∙ sym (append_assoc t (take i text) (b ∷ [])) in
    let whole : t ++ text ≡ (t ++ take (i + 1) text) ++ drop (i + 1) text =
    ap (λ (x : List ℕ). t ++ x) (sym (take-append-drop (i + 1) text))
    ∙ sym (append_assoc t (take (i + 1) text) (drop (i + 1) text)) in
    let all : (t ++ text) ++ rest ≡ (t ++ take i text) ++ b ∷ (drop (i + 1) text ++ rest) =
    ap (λ (x : List ℕ). x ++ rest) whole ∙ append_assoc (t ++ take (i + 1) text) (drop (i + 1) text) rest
    ∙ ap (λ (x : List ℕ). x ++ (drop (i + 1) text ++ rest)) more
    ∙ joined (t ++ take i text) b (drop (i + 1) text ++ rest) in
    ap (token_made d) all ∙ sym (before (b ∷ (drop (i + 1) text ++ rest)))
    ∙ ap (token_made d) (sym (joined k b (drop (i + 1) text ++ rest))) ∙ broken (drop (i + 1) text ++ rest)

pub gives_breaks : (ok : Bool) (d : Dump) (kept token : List ℕ) → ok ≡ false → Keeps ok d kept token → Breaks d token
gives_breaks true d kept token is h = cc
gives_breaks false d kept token is h = h
