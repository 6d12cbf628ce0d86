-- A set of codes as lists of bytes.
use Rattle.std.proofs.Common.{◌≡◌, ℕ, Bool, ◌||◌, List, [], ◌∷◌, ◌++◌, length, max, refl, sym, ap, ◌∙◌, arith}
use Rattle.std.specs.Prelude.{map}
use Rattle.std.specs.Global.{Vec}
use Rattle.std.specs.List.{list_any}
use Rattle.std.specs.BTreeMap.{is_at}
use Rattle.std.specs.BTreeSet.{insert_key}
use Rattle.std.specs.Cmp.Lexicographic.{slice_cmp}
use Rattle.std.specs.Ordering.{nat_cmp, match_ordering}
use Rattle.std.specs.declared.cmp.Ordering.{Ordering}
use Rattle.std.specs.declared.cmp.Ordering.TheVariants.{Less, Equal, Greater}
use Rattle.std.specs.FinSet.{nat_cmp-IsAntisymmetric, slice_cmp-IsAntisymmetric}
use Rattle.vcd_text.specs.CodeLists.{bytes_in, longest_code, longest_device}
use Rattle.vcd_text.specs.Codes.{with_code, has_code}

abbrev pub code_cmp : Vec ℕ → Vec ℕ → Ordering
code_cmp x y = slice_cmp nat_cmp x.items y.items

step : (o : Ordering) (k x : Vec ℕ) (xs more : List (Vec ℕ)) (codes : List (List ℕ)) → map bytes_in more ≡ codes
    → map bytes_in (match_ordering o (k ∷ x ∷ xs) (x ∷ xs) (x ∷ more))
    ≡ match_ordering o (k.items ∷ x.items ∷ map bytes_in xs) (x.items ∷ map bytes_in xs) (x.items ∷ codes)
step Less k x xs more codes is = refl
step Equal k x xs more codes is = refl
step Greater k x xs more codes is = ap (λ (ys : List (List ℕ)). x.items ∷ ys) is

pub inserted : (xs : List (Vec ℕ)) (k : Vec ℕ)
    → map bytes_in (insert_key code_cmp xs k) ≡ with_code (map bytes_in xs) k.items
inserted [] k = refl
inserted (x ∷ xs) k =
    step (code_cmp k x) k x xs (insert_key code_cmp xs k) (with_code (map bytes_in xs) k.items) (inserted xs k)

pub found : (xs : List (Vec ℕ)) (code : List ℕ)
    → list_any (is_at (λ x. slice_cmp nat_cmp code x.items)) xs ≡ has_code (map bytes_in xs) code
found [] code = refl
found (x ∷ xs) code = ap (λ (b : Bool). is_at (slice_cmp nat_cmp code) x.items || b) (found xs code)

-- ---- the longest code

longest_step : (o : Ordering) (code x : List ℕ) (codes more : List (List ℕ))
    → slice_cmp nat_cmp code x ≡ o → longest_code more ≡ max (longest_code codes) (length code)
    → longest_code (match_ordering o (code ∷ x ∷ codes) (x ∷ codes) (x ∷ more))
    ≡ max (max (length x) (longest_code codes)) (length code)
longest_step Less code x codes more is so = omega arith
longest_step Greater code x codes more is so = omega (arith, so)
longest_step Equal code x codes more is so =
    let same : code ≡ x = slice_cmp-IsAntisymmetric nat_cmp-IsAntisymmetric code x is in
    omega (arith, ap (λ (xs : List ℕ). length xs) same)

pub longest_with : (codes : List (List ℕ)) (code : List ℕ)
    → longest_code (with_code codes code) ≡ max (longest_code codes) (length code)
longest_with [] code = omega arith
longest_with (x ∷ codes) code =
    longest_step (slice_cmp nat_cmp code x) code x codes (with_code codes code) refl (longest_with codes code)

pub longest_more : (old new : List (Vec ℕ)) (k : Vec ℕ) (n len longest : ℕ) → new ≡ insert_key code_cmp old k
    → n ≡ longest_code (map bytes_in old) → len ≡ length k.items → longest ≡ max n len
    → longest ≡ longest_code (map bytes_in new)
longest_more old new k n len longest is before long now = now ∙ (λ i. max (before i) (long i))
    ∙ sym (ap (λ (xs : List (Vec ℕ)). longest_code (map bytes_in xs)) is ∙ ap longest_code (inserted old k)
    ∙ longest_with (map bytes_in old) k.items)

pub longest_device_more : (xs : List (ℕ × List ℕ)) (device : ℕ) (code : List ℕ)
    → longest_device (xs ++ (device, code) ∷ []) ≡ max (longest_device xs) (length code)
longest_device_more [] device code = omega arith
longest_device_more (x ∷ xs) device code = let more = longest_device_more xs device code in omega (arith, more)

pub longest_device_with :
    (old new : List (ℕ × List ℕ)) (named : ℕ × List ℕ) (device : ℕ) (code : List ℕ) (before longest : ℕ)
    → new ≡ old ++ named ∷ [] → named ≡ (device, code) → before ≡ longest_device old
    → longest ≡ max before (length code) → longest ≡ longest_device new
longest_device_with old new named device code before longest added is so now =
    now ∙ ap (λ (n : ℕ). max n (length code)) so ∙ sym (ap longest_device added
    ∙ ap (λ (x : ℕ × List ℕ). longest_device (old ++ x ∷ [])) is ∙ longest_device_more old device code)
