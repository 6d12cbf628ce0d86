-- Tokens longer than any that is told apart by its bytes.
use Rattle.std.proofs.Common.{◌≡◌, ℕ, ◌+◌, ◌-◌, ◌*◌, ◌^◌, ◌<◌, ◌≤◌, Bool, true, false, ◌&&◌, ◌||◌, List, [], ◌∷◌, ◌++◌}
use Rattle.std.proofs.Common.{length, refl, sym, ap, ◌∙◌, arith, lit≤, Some, None, Option}
use Rattle.std.specs.Prelude.{not, nat_eq, nat_lt, ◌==◌, option_map, codes, if◌then◌else◌}
use Rattle.std.specs.List.{list_all}
use Rattle.std.specs.Char.{is_ascii_digit}
use Rattle.std.specs.Ordering.{nat_cmp, is_eq}
use Rattle.std.specs.Cmp.Lexicographic.{pointwise, slice_cmp, unequal}
use Rattle.std.specs.FinSet.{nat_cmp-IsAntisymmetric, slice_cmp-IsAntisymmetric}
use Rattle.std.specs.BTreeMap.{is_at}
use Rattle.std.specs.declared.cmp.Ordering.{Ordering}
use Rattle.std.specs.declared.cmp.Ordering.TheVariants.{Less, Equal, Greater}
use Rattle.std.proofs.Math.Nat.{pow-le-pow_right, pow-succ', mul-le-mul_right, mul_assoc}
use Rattle.std.proofs.lemmas.Bool.{lt-ltb}
use Rattle.std.proofs.lemmas.Bool.Decides.{nat_tests}
use Rattle.std.proofs.lemmas.List.{length-append}
use Rattle.bus_trace.specs.LineSet.{LineSet, set_of}
use Rattle.vcd_text.specs.declared.awaits.Awaits.{Awaits}
use Rattle.vcd_text.specs.declared.awaits.Awaits.TheVariants.{Declaration, Remark, Timescale, Nanoseconds, ScopeKind}
use Rattle.vcd_text.specs.declared.awaits.Awaits.TheVariants.{ScopeName, End, VarKind, VarWidth, VarCode, VarName}
use Rattle.vcd_text.specs.declared.awaits.Awaits.TheVariants.{VarRange, LastEnd, Change, ChangeRemark, Code}
use Rattle.vcd_text.specs.declared.dump.Dump.{Dump}
use Rattle.vcd_text.specs.declared.kept.Tail.{Tail}
use Rattle.vcd_text.specs.declared.kept.Tail.TheVariants.{Any, States, Digits}
use Rattle.vcd_text.specs.CodeLists.{longest_code, longest_device}
use Rattle.vcd_text.specs.Codes.{has_code, device_of}
use Rattle.vcd_text.specs.Tokens.{is_word, is_end, is_state, are_states, is_letter, device_named, given, decimal_after}
use Rattle.vcd_text.specs.Tokens.{decimal_of, bits_after, lines_of, after_timescale, after_change_keyword, after_value}
use Rattle.vcd_text.specs.Steps.{going, scaled, keyword, named, timed, is_other, after_change, changed, valued, step_by}
use Rattle.vcd_text.specs.Kept.{token_limit, is_new_code, tail_after, change_tail, tail_of}
use Rattle.vcd_text.proofs.Numbers.{decimal_none}
use Rattle.bus_base.proofs.Tests.{and_false}

-- ---- words and codes

long_word : (word token : List ℕ) (n : ℕ) → length word ≡ n → n < length token → is_word word token ≡ false
long_word word token n is h = unequal nat_eq token word (λ (e : length token ≡ length word). omega (arith, e, is, h))

not_equal : (o : Ordering) (code x : List ℕ) → slice_cmp nat_cmp code x ≡ o → length x < length code → is_eq o ≡ false
not_equal Less code x e h = refl
not_equal Greater code x e h = refl
not_equal Equal code x e h =
    let same : code ≡ x = slice_cmp-IsAntisymmetric nat_cmp-IsAntisymmetric code x e in
    absurd (omega (arith, ap (λ (xs : List ℕ). length xs) same))

has_long : (codes : List (List ℕ)) (code : List ℕ) → longest_code codes < length code → has_code codes code ≡ false
has_long [] code h = refl
has_long (x ∷ xs) code h =
    let one : is_at (slice_cmp nat_cmp code) x ≡ false = not_equal
    (slice_cmp nat_cmp code x) code x refl (omega (arith, h)) in
    λ i. one i || has_long xs code (omega (arith, h)) i

device_long : (xs : List (ℕ × List ℕ)) (code : List ℕ) → longest_device xs < length code → device_of xs code ≡ None
device_long [] code h = refl
device_long (x ∷ xs) code h =
    let one : pointwise nat_eq x.1 code ≡ false = unequal nat_eq x.1 code
    (λ (e : length x.1 ≡ length code). omega (arith, e, h)) in
    λ i. if one i then Some x.0 else device_long xs code (omega (arith, h)) i

-- ---- tokens that are told by their words

keyword_long : (d : Dump) (t : List ℕ) → 15 < length t → keyword d t ≡ None
keyword_long d t h =
    let w0 : is_word (codes "$timescale") t ≡ false = long_word (codes "$timescale") t 10 refl (omega arith) in
    let w1 : is_word (codes "$date") t ≡ false = long_word (codes "$date") t 5 refl (omega arith) in
    let w2 : is_word (codes "$version") t ≡ false = long_word (codes "$version") t 8 refl (omega arith) in
    let w3 : is_word (codes "$comment") t ≡ false = long_word (codes "$comment") t 8 refl (omega arith) in
    let w4 : is_word (codes "$scope") t ≡ false = long_word (codes "$scope") t 6 refl (omega arith) in
    let w5 : is_word (codes "$upscope") t ≡ false = long_word (codes "$upscope") t 8 refl (omega arith) in
    let w6 : is_word (codes "$var") t ≡ false = long_word (codes "$var") t 4 refl (omega arith) in
    let w7 : is_word (codes "$enddefinitions") t ≡ false = long_word
    (codes "$enddefinitions") t 15 refl (omega arith) in
    λ i. if w0 i then scaled d else going d (if w1 i then Some Remark
    else if w2 i then Some Remark else if w3 i then Some Remark else if w4 i then Some ScopeKind
    else if w5 i then Some End else if w6 i then Some VarKind else if w7 i then given d.has_timescale LastEnd else None)

change_keyword_long : (t : List ℕ) → 9 < length t → after_change_keyword t ≡ None
change_keyword_long t h =
    let w0 : is_word (codes "$dumpvars") t ≡ false = long_word (codes "$dumpvars") t 9 refl (omega arith) in
    let w1 : is_word (codes "$dumpall") t ≡ false = long_word (codes "$dumpall") t 8 refl (omega arith) in
    let w2 : is_word (codes "$dumpon") t ≡ false = long_word (codes "$dumpon") t 7 refl (omega arith) in
    let w3 : is_word (codes "$end") t ≡ false = long_word (codes "$end") t 4 refl (omega arith) in
    let w4 : is_word (codes "$comment") t ≡ false = long_word (codes "$comment") t 8 refl (omega arith) in
    λ i. if w0 i then Some Change else if w1 i then Some Change
    else if w2 i then Some Change else if w3 i then Some Change else if w4 i then Some ChangeRemark else None

timescale_long : (t : List ℕ) → 3 < length t → after_timescale t ≡ None
timescale_long t h =
    let w0 : is_word (codes "1ns") t ≡ false = long_word (codes "1ns") t 3 refl (omega arith) in
    let w1 : is_word (codes "1") t ≡ false = long_word (codes "1") t 1 refl (omega arith) in
    λ i. if w0 i then Some End else if w1 i then Some Nanoseconds else None

end_long : (t : List ℕ) → 4 < length t → is_end t ≡ false
end_long t h = long_word (codes "$end") t 4 refl h

ns_long : (t : List ℕ) → 4 < length t → is_word (codes "ns") t ≡ false
ns_long t h = long_word (codes "ns") t 2 refl (omega arith)

name_long : (t : List ℕ) → 2 < length t → device_named t ≡ None
name_long [] h = absurd (omega (arith, h))
name_long (a ∷ []) h = absurd (omega (arith, h))
name_long (a ∷ b ∷ []) h = absurd (omega (arith, h))
name_long (a ∷ b ∷ c ∷ t) h = refl

-- ---- values

pub all_drop : (p : ℕ → Bool) (w : List ℕ) (b : ℕ) (rest : List ℕ) → p b ≡ true
    → list_all p (w ++ b ∷ rest) ≡ list_all p (w ++ rest)
all_drop p [] b rest is = ap (λ (q : Bool). q && list_all p rest) is
all_drop p (x ∷ w) b rest is = ap (λ (q : Bool). p x && q) (all_drop p w b rest is)

pub all_dead : (p : ℕ → Bool) (w : List ℕ) (b : ℕ) (rest : List ℕ) → p b ≡ false → list_all p (w ++ b ∷ rest) ≡ false
all_dead p [] b rest is = ap (λ (q : Bool). q && list_all p rest) is
all_dead p (x ∷ w) b rest is = ap (λ (q : Bool). p x && q) (all_dead p w b rest is) ∙ and_false (p x)

some_bytes : (t : List ℕ) → 0 < length t → (length t == 0) ≡ false
some_bytes t h = grind (arith, nat_tests)

lines_long : (digits : List ℕ) → 18 < length digits → lines_of digits ≡ None
lines_long digits h =
    ap (λ (q : Bool). option_map set_of (if q then None else bits_after (Some 0) digits)) (lt-ltb 18 (length digits) h)

value_drop : (w : List ℕ) (b : ℕ) (rest : List ℕ) → 18 < length w → is_state b ≡ true
    → after_value (w ++ b ∷ rest) ≡ after_value (w ++ rest)
value_drop w b rest h is =
    let some : (length (w ++ b ∷ rest) == 0) ≡ false = some_bytes
    (w ++ b ∷ rest) (omega (arith, length-append w (b ∷ rest))) in
    let more : (length (w ++ rest) == 0) ≡ false = some_bytes (w ++ rest) (omega (arith, length-append w rest)) in
    let same : (length (w ++ b ∷ rest) == 0) ≡ (length (w ++ rest) == 0) = some ∙ sym more in
    let states : are_states (w ++ b ∷ rest) ≡ are_states (w ++ rest) = λ i. not (same i)
    && all_drop is_state w b rest is i in
    let lines : lines_of (w ++ b ∷ rest) ≡ lines_of (w ++ rest) =
    lines_long (w ++ b ∷ rest) (omega (arith, length-append w (b ∷ rest)))
    ∙ sym (lines_long (w ++ rest) (omega (arith, length-append w rest))) in
    λ i. given (states i) (Code (lines i))

value_dead : (w : List ℕ) (b : ℕ) (rest : List ℕ) → is_state b ≡ false → after_value (w ++ b ∷ rest) ≡ None
value_dead w b rest is =
    let states : are_states (w ++ b ∷ rest) ≡ false =
    ap (λ (q : Bool). not (length (w ++ b ∷ rest) == 0) && q) (all_dead is_state w b rest is)
    ∙ and_false (not (length (w ++ b ∷ rest) == 0)) in
    ap (λ (q : Bool). given q (Code (lines_of (w ++ b ∷ rest)))) states

-- ---- a byte that does not matter

-- A token of this tail may go on with the byte, which then does not matter.
abbrev pub Passes : Tail → ℕ → Type 0
Passes Any b = Unit {0}
Passes States b = is_state b ≡ true
Passes (Digits at) b = ⊥

other_long : (d : Dump) (code : List ℕ) → longest_code d.codes < length code → longest_device d.devices < length code
    → is_other d (device_of d.devices code) code ≡ false
other_long d code h k =
    ap (λ (o : Option ℕ). is_other d o code) (device_long d.devices code k) ∙ has_long d.codes code h

not_digits : (q : Bool) (t : Tail) (b : ℕ) → Passes (if q then Digits 1 else t) b → q ≡ false
not_digits true t b h = elim h [ ]
not_digits false t b h = refl

states_pass : (q l : Bool) (b : ℕ) → Passes (if q then Digits 1 else if l then States else Any) b → l ≡ true
    → is_state b ≡ true
states_pass true l b h is = elim h [ ]
states_pass false true b h is = h
states_pass false false b h is = cc

picked : (l m n : Bool) (v w : Option Awaits) (o p : Bool) → (l ≡ true → v ≡ w) → o ≡ p
    → (if l then v else if m then Some (Code None) else if n then given o Change else None)
    ≡ (if l then w else if m then Some (Code None) else if n then given p Change else None)
picked true m n v w o p same other = same refl
picked false true n v w o p same other = refl
picked false false true v w o p same other = ap (λ (q : Bool). given q Change) other
picked false false false v w o p same other = refl

after_change_drop : (d : Dump) (first : ℕ) (w : List ℕ) (b : ℕ) (rest : List ℕ) → token_limit d ≤ length (first ∷ w)
    → Passes (tail_after first) b → after_change d first (w ++ b ∷ rest) ≡ after_change d first (w ++ rest)
after_change_drop d first w b rest h pass =
    let other : is_other d (device_of d.devices (w ++ b ∷ rest)) (w ++ b ∷ rest)
    ≡ is_other d (device_of d.devices (w ++ rest)) (w ++ rest) =
    other_long d (w ++ b ∷ rest) (omega (arith, length-append w (b ∷ rest))) (omega (arith, length-append w (b ∷ rest)))
    ∙ sym (other_long d (w ++ rest) (omega (arith, length-append w rest)) (omega (arith, length-append w rest))) in
    picked (is_letter 98 66 first) (is_letter 114 82 first) (is_state first) (after_value (w ++ b ∷ rest))
    (after_value (w ++ rest)) _ _ (λ (is : is_letter 98 66 first ≡ true). value_drop w b rest (omega (arith, h))
    (states_pass (first == 35) (is_letter 98 66 first) b pass is)) other

changed_pick : (d : Dump) (q k : Bool) (x y : Option Dump) (v w m n : Option Awaits) → q ≡ false → v ≡ w → m ≡ n
    → (if q then x else if k then going d v else going d m) ≡ (if q then y else if k then going d w else going d n)
changed_pick d true k x y v w m n not_time same more = cc
changed_pick d false true x y v w m n not_time same more = ap (going d) same
changed_pick d false false x y v w m n not_time same more = ap (going d) more

changed_drop : (d : Dump) (w : List ℕ) (b : ℕ) (rest : List ℕ) → token_limit d ≤ length w → Passes (change_tail w) b
    → changed d (w ++ b ∷ rest) ≡ changed d (w ++ rest)
changed_drop d [] b rest h pass = absurd (omega (arith, h))
changed_drop d (first ∷ w) b rest h pass =
    let words : after_change_keyword (first ∷ w ++ b ∷ rest) ≡ after_change_keyword (first ∷ w ++ rest) =
    change_keyword_long (first ∷ w ++ b ∷ rest) (omega (arith, length-append w (b ∷ rest)))
    ∙ sym (change_keyword_long (first ∷ w ++ rest) (omega (arith, length-append w rest))) in
    changed_pick d (first == 35) (first == 36) (timed d (decimal_of (w ++ b ∷ rest))) (timed d (decimal_of (w ++ rest)))
    _ _ _ _ (not_digits (first == 35) _ b pass) words (after_change_drop d first w b rest h pass)

same_part : (d : Dump) (a x y : Option Awaits) → x ≡ a → y ≡ a → going d x ≡ going d y
same_part d a x y e f = ap (going d) (e ∙ sym f)

pub step_drop : (a : Awaits) (d : Dump) (w : List ℕ) (b : ℕ) (rest : List ℕ) → is_new_code a ≡ false
    → token_limit d ≤ length w → Passes (tail_of a w) b → step_by a d (w ++ b ∷ rest) ≡ step_by a d (w ++ rest)
step_drop Declaration d w b rest told h pass =
    keyword_long d (w ++ b ∷ rest) (omega (arith, length-append w (b ∷ rest)))
    ∙ sym (keyword_long d (w ++ rest) (omega (arith, length-append w rest)))
step_drop Remark d w b rest told h pass =
    let e : is_end (w ++ b ∷ rest) ≡ is_end (w ++ rest) =
    end_long (w ++ b ∷ rest) (omega (arith, length-append w (b ∷ rest)))
    ∙ sym (end_long (w ++ rest) (omega (arith, length-append w rest))) in
    λ i. going d (Some (if e i then Declaration else Remark))
step_drop Timescale d w b rest told h pass = same_part d None _ _ (timescale_long (w ++ b ∷ rest)
    (omega (arith, length-append w (b ∷ rest)))) (timescale_long (w ++ rest) (omega (arith, length-append w rest)))
step_drop Nanoseconds d w b rest told h pass =
    let e : is_word (codes "ns") (w ++ b ∷ rest) ≡ is_word (codes "ns") (w ++ rest) =
    ns_long (w ++ b ∷ rest) (omega (arith, length-append w (b ∷ rest)))
    ∙ sym (ns_long (w ++ rest) (omega (arith, length-append w rest))) in
    λ i. going d (given (e i) End)
step_drop ScopeKind d w b rest told h pass = refl
step_drop ScopeName d w b rest told h pass = refl
step_drop End d w b rest told h pass =
    let e : is_end (w ++ b ∷ rest) ≡ is_end (w ++ rest) =
    end_long (w ++ b ∷ rest) (omega (arith, length-append w (b ∷ rest)))
    ∙ sym (end_long (w ++ rest) (omega (arith, length-append w rest))) in
    λ i. going d (given (e i) Declaration)
step_drop VarKind d w b rest told h pass = refl
step_drop VarWidth d w b rest told h pass = elim pass [ ]
step_drop (VarCode is_wide) d w b rest told h pass = cc
step_drop (VarName is_wide) d w b rest told h pass =
    ap (named is_wide d) (name_long (w ++ b ∷ rest) (omega (arith, length-append w (b ∷ rest)))
    ∙ sym (name_long (w ++ rest) (omega (arith, length-append w rest))))
step_drop VarRange d w b rest told h pass =
    let e : is_end (w ++ b ∷ rest) ≡ is_end (w ++ rest) =
    end_long (w ++ b ∷ rest) (omega (arith, length-append w (b ∷ rest)))
    ∙ sym (end_long (w ++ rest) (omega (arith, length-append w rest))) in
    λ i. going d (Some (if e i then Declaration else End))
step_drop LastEnd d w b rest told h pass =
    let e : is_end (w ++ b ∷ rest) ≡ is_end (w ++ rest) =
    end_long (w ++ b ∷ rest) (omega (arith, length-append w (b ∷ rest)))
    ∙ sym (end_long (w ++ rest) (omega (arith, length-append w rest))) in
    λ i. going d (given (e i) Change)
step_drop Change d w b rest told h pass = changed_drop d w b rest h pass
step_drop ChangeRemark d w b rest told h pass =
    let e : is_end (w ++ b ∷ rest) ≡ is_end (w ++ rest) =
    end_long (w ++ b ∷ rest) (omega (arith, length-append w (b ∷ rest)))
    ∙ sym (end_long (w ++ rest) (omega (arith, length-append w rest))) in
    λ i. going d (Some (if e i then Change else ChangeRemark))
step_drop (Code value) d w b rest told h pass = valued_long d value (w ++ b ∷ rest)
    (omega (arith, length-append w (b ∷ rest))) (omega (arith, length-append w (b ∷ rest)))
    ∙ sym (valued_long d value (w ++ rest) (omega (arith, length-append w rest)) (omega (arith, length-append w rest)))
  where
    valued_long : (d : Dump) (value : Option LineSet) (code : List ℕ) → longest_code d.codes < length code
        → longest_device d.devices < length code → valued d (device_of d.devices code) value code ≡ None
    valued_long d value code h k = ap (λ (o : Option ℕ). valued d o value code) (device_long d.devices code k)
        ∙ ap (λ (q : Bool). going d (given q Change)) (has_long d.codes code h)

-- ---- a value that goes on with no state

dead_letter : (q k : Bool) (x : Option Dump) (d : Dump) (v m : Option Awaits) → q ≡ false → k ≡ false → m ≡ None
    → (if q then x else if k then going d v else going d m) ≡ None
dead_letter true k x d v m not_time not_word none = cc
dead_letter false true x d v m not_time not_word none = cc
dead_letter false false x d v m not_time not_word none = ap (going d) none

letter_only : (first : ℕ) → is_letter 98 66 first ≡ true → ((first == 35) ≡ false) × ((first == 36) ≡ false)
letter_only first is = (grind (arith, nat_tests), grind (arith, nat_tests))

pub changed_dead : (d : Dump) (first : ℕ) (w : List ℕ) (b : ℕ) (rest : List ℕ) → is_letter 98 66 first ≡ true
    → is_state b ≡ false → changed d (first ∷ w ++ b ∷ rest) ≡ None
changed_dead d first w b rest is bad =
    let only = letter_only first is in
    let none : after_change d first (w ++ b ∷ rest) ≡ None =
    ap (λ (q : Bool). if q then after_value (w ++ b ∷ rest) else if is_letter 114 82 first then Some (Code None)
    else if is_state first then given (is_other d (device_of d.devices (w ++ b ∷ rest)) (w ++ b ∷ rest)) Change
    else None) is ∙ value_dead w b rest bad in
    dead_letter (first == 35) (first == 36) (timed d (decimal_of (w ++ b ∷ rest))) d
    (after_change_keyword (first ∷ w ++ b ∷ rest)) (after_change d first (w ++ b ∷ rest)) only.0 only.1 none

-- ---- numbers

decimal_some : (digits : List ℕ) → 0 < length digits → decimal_of digits ≡ decimal_after (Some 0) digits
decimal_some digits h = ap (λ (q : Bool). if q then None else decimal_after (Some 0) digits) (some_bytes digits h)

-- A zero in front says nothing.
pub zero_in_front : (digits : List ℕ) → 0 < length digits → decimal_of (48 ∷ digits) ≡ decimal_of digits
zero_in_front digits h = decimal_some (48 ∷ digits) (omega arith) ∙ sym (decimal_some digits h)

grown : (n d l p q : ℕ) → n * 10 ≤ q → 2 ^ 64 ≤ n * p → p ≡ 10 * l → 2 ^ 64 ≤ q * l
grown n d l p q more h is =
    omega (arith, h, ap (λ (k : ℕ). n * k) is, mul_assoc n 10 l, mul-le-mul_right {m = n * 10} {n = q} l more)

too_large : (ds : List ℕ) (n : ℕ) → n < 2 ^ 64 → 2 ^ 64 ≤ n * 10 ^ length ds → decimal_after (Some n) ds ≡ None
too_large [] n small h = absurd (omega (arith, small, h))
too_large (d ∷ ds) n small h =
    go (is_ascii_digit d && nat_lt (n * 10 + (d - 48)) (2 ^ 64)) refl (too_large ds (n * 10 + (d - 48)))
  where
    go : (q : Bool) → (is_ascii_digit d && nat_lt (n * 10 + (d - 48)) (2 ^ 64)) ≡ q → (n * 10 + (d - 48) < 2 ^ 64
        → 2 ^ 64 ≤ (n * 10 + (d - 48)) * 10 ^ length ds → decimal_after (Some (n * 10 + (d - 48))) ds ≡ None)
        → decimal_after
        (if is_ascii_digit d && nat_lt (n * 10 + (d - 48)) (2 ^ 64) then Some (n * 10 + (d - 48)) else None) ds ≡ None
    go true is more =
        let lt : n * 10 + (d - 48) < 2 ^ 64 = grind (arith, nat_tests) in
        ap (λ (q : Bool). decimal_after (if q then Some (n * 10 + (d - 48)) else None) ds) is
        ∙ more lt (grown n d (10 ^ length ds) (10 ^ length (d ∷ ds)) (n * 10 + (d - 48)) (omega arith) h
        (pow-succ' 10 (length ds)))
    go false is more =
        ap (λ (q : Bool). decimal_after (if q then Some (n * 10 + (d - 48)) else None) ds) is ∙ decimal_none ds

-- A number that begins with no zero, of more than twenty digits, or with another byte among them, is none of 64 bits.
pub long_number : (x : ℕ) (ds : List ℕ) → (x ≡ 48 → ⊥) → 20 ≤ length ds → decimal_of (x ∷ ds) ≡ None
long_number x ds not_zero long =
    decimal_some (x ∷ ds) (omega arith) ∙ go (is_ascii_digit x && nat_lt (0 * 10 + (x - 48)) (2 ^ 64)) refl
  where
    go : (q : Bool) → (is_ascii_digit x && nat_lt (0 * 10 + (x - 48)) (2 ^ 64)) ≡ q → decimal_after
        (if is_ascii_digit x && nat_lt (0 * 10 + (x - 48)) (2 ^ 64) then Some (0 * 10 + (x - 48)) else None) ds ≡ None
    go true is =
        let one : 1 ≤ x - 48 = grind (arith, nat_tests) in
        let lt : 0 * 10 + (x - 48) < 2 ^ 64 = grind (arith, nat_tests) in
        let power : 10 ^ 20 ≤ 10 ^ length ds = pow-le-pow_right (lit≤ tt) long in
        let more : 10 ^ length ds ≤ (0 * 10 + (x - 48)) * 10 ^ length ds = omega
        (arith, mul-le-mul_right {m = 1} {n = x - 48} (10 ^ length ds) one) in
        ap (λ (q : Bool). decimal_after (if q then Some (0 * 10 + (x - 48)) else None) ds) is
        ∙ too_large ds (0 * 10 + (x - 48)) lt (omega (arith, power, more))
    go false is =
        ap (λ (q : Bool). decimal_after (if q then Some (0 * 10 + (x - 48)) else None) ds) is ∙ decimal_none ds
