-- Each line of the form has at most 27 bytes.
use Rattle.std.proofs.Common.{◌≡◌, ℕ, ◌+◌, ◌-◌, ◌^◌, ◌<◌, ◌≤◌, Bool, true, false, ltb, List, [], ◌∷◌, length, take}
use Rattle.std.proofs.Common.{drop, Option, Some, None, refl, sym, ap, ◌∙◌, arith}
use Rattle.std.specs.Prelude.{nat_eq, decimal, codes}
use Rattle.std.specs.Cmp.Lexicographic.{pointwise, same_text}
use Rattle.std.proofs.lemmas.Bool.{ltb-true}
use Rattle.std.proofs.lemmas.List.{length-drop, length-append}
use Rattle.std.proofs.lemmas.Fmt.{length-decimal-le}
use Rattle.text_words.specs.Words.{Number, after, number_at, is_digit, digit_at, is_whole}
use Rattle.text_words.proofs.Only.{bind_some, cond_some, number_only}
use Rattle.bus_trace.specs.declared.Kind.{Kind}
use Rattle.bus_trace.specs.declared.Row.{Row}
use Rattle.trace_text.specs.declared.stages.Stage.{Stage}
use Rattle.trace_text.specs.declared.stages.Stage.TheVariants as stages
use Rattle.trace_text.specs.Lines.{below, kind_at, row_at, end_at, is_first, is_history, stage_after}

pub below_is : (n : Number) (t : ℕ) → below n ≡ Some t → (n ≡ Some t) × (t < 2 ^ 63)
below_is None t e = absurd cc
below_is (Some m) t e =
    let p = cond_some (ltb m (2 ^ 63)) m t e in
    let lt : m < 2 ^ 63 = ltb-true _ _ p.0 in
    let same = p.1 in
    (ap (λ (k : ℕ). Some k) same, omega arith)

number_short : (bytes : List ℕ) (x : Number × List ℕ) (t : ℕ) → number_at bytes ≡ Some x → below x.0 ≡ Some t
    → length bytes ≤ 19 + length x.1
number_short bytes x t e b =
    let t-is = below_is x.0 t b in
    let only = number_only bytes t x.1
    (e ∙ ap (λ (n : Number). let y : Option (Number × List ℕ) = Some (n, x.1) in y) t-is.0) in
    let lt : t < 2 ^ 63 = t-is.1 in
    let len : length (decimal t) ≤ 19 = length-decimal-le 19 t (omega arith) (omega arith) only.0 in
    omega (arith, ap length only.1, length-append (decimal t) x.1)

after_len : (w bytes rest : List ℕ) → after w bytes ≡ Some rest → length bytes ≤ length w + length rest
unfolding after
after_len w bytes rest e =
    let p = cond_some (pointwise nat_eq (take (length w) bytes) w) (drop (length w) bytes) rest e in
    omega (arith, length-drop (length w) bytes, ap length p.1)

device_len : (bytes : List ℕ) (x : ℕ × List ℕ) → digit_at bytes ≡ Some x → length bytes ≤ 1 + length x.1
device_len [] x e = absurd cc
device_len (b ∷ rest) x e =
    let p = cond_some (is_digit b) (b - 48, rest) x e in
    omega (arith, ap (λ (y : ℕ × List ℕ). length y.1) p.1)

kind_len : (bytes : List ℕ) (k : Kind) → kind_at bytes ≡ Some k → length bytes ≤ 5
kind_len [] k e = absurd cc
kind_len (a ∷ []) k e = absurd cc
kind_len (a ∷ b ∷ []) k e = omega arith
kind_len (a ∷ b ∷ c ∷ []) k e = absurd cc
kind_len (a ∷ b ∷ c ∷ d ∷ []) k e = absurd cc
kind_len (a ∷ b ∷ c ∷ d ∷ f ∷ []) k e = omega arith
kind_len (a ∷ b ∷ c ∷ d ∷ f ∷ g ∷ rest) k e = absurd cc

row_short : (line : List ℕ) (r : Row) → row_at line ≡ Some r → length line ≤ 27
unfolding row_at
row_short line r e =
    let n = bind_some (number_at line) _ r e in
    let t = bind_some (below (n.0).0) _ r n.2 in
    let a = bind_some (after (codes " ") (n.0).1) _ r t.2 in
    let d = bind_some (digit_at a.0) _ r a.2 in
    let b = bind_some (after (codes " ") (d.0).1) _ r d.2 in
    let h = bind_some (kind_at b.0) _ r b.2 in
    omega (
      arith,
      number_short line n.0 t.0 n.1 t.1,
      after_len (codes " ") (n.0).1 a.0 a.1,
      device_len a.0 d.0 d.1,
      after_len (codes " ") (d.0).1 b.0 b.1,
      kind_len b.0 h.0 h.1,
    )

whole_len : (bytes : List ℕ) (x : Unit {0}) → is_whole bytes ≡ Some x → length bytes ≡ 0
whole_len [] x e = refl
whole_len (b ∷ bytes) x e = absurd cc

end_short : (line : List ℕ) (t : ℕ) → end_at line ≡ Some t → length line ≤ 27
unfolding end_at
end_short line t e =
    let a = bind_some (after (codes "end ") line) _ t e in
    let n = bind_some (number_at a.0) _ t a.2 in
    let w = bind_some (is_whole (n.0).1) _ t n.2 in
    omega (arith, after_len (codes "end ") line a.0 a.1, number_short a.0 n.0 t n.1 w.2, whole_len (n.0).1 w.0 w.1)

-- ---- a longer line has none of the forms

none_of : {A : Type 0} (line : List ℕ) (o : Option A) → 28 ≤ length line
    → ((x : A) → o ≡ Some x → length line ≤ 27) → o ≡ None
none_of line None long short = refl
none_of line (Some x) long short = absurd (let le = short x refl in omega arith)

first_not : (line : List ℕ) (q : Bool) → 28 ≤ length line → is_first line ≡ q → q ≡ false
first_not line false long e = refl
first_not line true long e =
    absurd (let same : length line ≡ 7 = ap length (same_text line (codes "trace 1") (sym e)) in omega arith)

history_not : (line : List ℕ) (q : Bool) → 28 ≤ length line → is_history line ≡ q → q ≡ false
history_not line false long e = refl
history_not line true long e =
    absurd (let same : length line ≡ 7 = ap length (same_text line (codes "history") (sym e)) in omega arith)

-- the line says nothing that its front does not say
pub long_same : (s : Stage) (line front : List ℕ) → 28 ≤ length line → 28 ≤ length front
    → stage_after s front ≡ stage_after s line
long_same stages.Start line front long too =
    rw (first_not line (is_first line) long refl, first_not front (is_first front) too refl) refl
long_same stages.Rows line front long too = rw (
  none_of line (row_at line) long (row_short line),
  none_of line (end_at line) long (end_short line),
  none_of front (row_at front) too (row_short front),
  none_of front (end_at front) too (end_short front),
) refl
long_same (stages.Ended t) line front long too =
    rw (history_not line (is_history line) long refl, history_not front (is_history front) too refl) refl
long_same (stages.History t) line front long too = refl
