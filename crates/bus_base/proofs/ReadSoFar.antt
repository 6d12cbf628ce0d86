-- How far a loop that reads a source through a buffer has come.
use Rattle.std.proofs.Common.{◌≡◌, ℕ, ◌+◌, ◌≤◌, List, ◌++◌, length, take, drop, append_assoc, ap, subst, sym, ◌∙◌}
use Rattle.std.proofs.Common.{arith, length-append}
use Rattle.std.specs.Prelude.{Option, Some, None, IfSome, Result, Ok, Err, Vec}
use Rattle.std.specs.Result.{IsErr, IsErrAnd}
use Rattle.std.specs.declared.alloc.Global.{Global}
use Rattle.std.proofs.Math.Seq.{drop-append-add, drop-append_seam}
use Rattle.std.proofs.lemmas.List.{take-append-drop}
use Rattle.bus_base.specs.Taken.{TakesFront}
use Rattle.bus_base.specs.Pieces.{ReadsPiece, TakesBeyond, end_of}
use Rattle.bus_base.specs.Whole.{ReadsAll, TakesAtMost}
use Rattle.bus_base.specs.declared.reading.Cut.{Cut}
use Rattle.bus_base.specs.declared.reading.Cut.TheVariants as cuts
use Rattle.bus_base.specs.declared.reading.ReadEnd.{ReadEnd}

-- the bytes that the source had left at first, `old`, are those read so far and those left now
abbrev pub HasRead : Option (List ℕ) → Option (List ℕ) → List ℕ → Type 0
HasRead old now bytes = IfSome old (λ xs. (rest : List ℕ) × (xs ≡ bytes ++ rest) × (now ≡ Some rest))

-- what a read did, where the bytes left are known
pub told : (now next : Option (List ℕ)) (rest into : List ℕ) (n : ℕ) → now ≡ Some rest
    → IfSome now (λ ys. TakesFront ys next into n) → TakesFront rest next into n
told now next rest into n is took =
    let P : Option (List ℕ) → Type 0 = λ o. IfSome o (λ ys. TakesFront ys next into n) in
    subst P is took

-- n bytes more
pub read_more : (old now next : Option (List ℕ)) (bytes into : List ℕ) (n : ℕ) → HasRead old now bytes
    → IfSome now (λ ys. TakesFront ys next into n) → HasRead old next (bytes ++ take n into)
read_more None now next bytes into n so_far took = tt
read_more (Some xs) now next bytes into n (rest, whole, left) took =
    let t = told now next rest into n left took in
    let front : rest ≡ take n into ++ drop n rest = sym (take-append-drop n rest)
    ∙ ap (λ (ys : List ℕ). ys ++ drop n rest) (sym t.bytes) in (
      drop n rest,
      whole ∙ ap (λ (ys : List ℕ). bytes ++ ys) front ∙ sym (append_assoc bytes (take n into) (drop n rest)),
      t.rest,
    )

-- more bytes than were spared
pub beyond : (old now next : Option (List ℕ)) (bytes : List ℕ) (spare limit : ℕ) → HasRead old now bytes
    → TakesBeyond now next spare → length bytes + spare ≡ limit → TakesBeyond old next limit
beyond None now next bytes spare limit so_far took sum = tt
beyond (Some xs) now next bytes spare limit (rest, is, left) took sum =
    let (long, taken) = (let P : Option (List ℕ) → Type 0 = λ o. TakesBeyond o next spare in subst P left took) in
    let all : length bytes + (spare + 1) ≡ limit + 1 = omega (arith, sum) in (
      omega (arith, long, sum, ap length is, length-append bytes rest),
      taken ∙ ap Some (sym (drop-append-add bytes rest (spare + 1)) ∙ ap (λ k. drop k (bytes ++ rest)) all
          ∙ ap (λ ys. drop (limit + 1) ys) (sym is)),
    )

-- as many bytes were taken as were read
pub taken_so_far : (old now next : Option (List ℕ)) (bytes : List ℕ) (most : ℕ) → HasRead old now bytes → next ≡ now
    → length bytes ≤ most → TakesAtMost old next most
taken_so_far None now next bytes most so_far same few = tt
taken_so_far (Some xs) now next bytes most (rest, is, left) same few = (
  length bytes,
  few,
  same ∙ left ∙ ap Some (sym (drop-append_seam bytes rest) ∙ ap (λ ys. drop (length bytes) ys) (sym is)),
)

-- and n more by a read
pub taken_more : (old now next : Option (List ℕ)) (bytes into : List ℕ) (n most : ℕ) → HasRead old now bytes
    → IfSome now (λ ys. TakesFront ys next into n) → length bytes + n ≤ most → TakesAtMost old next most
taken_more None now next bytes into n most so_far took few = tt
taken_more (Some xs) now next bytes into n most (rest, is, left) took few = (
  length bytes + n,
  few,
  (told now next rest into n left took).rest
      ∙ ap Some (sym (drop-append-add bytes rest n) ∙ ap (λ ys. drop (length bytes + n) ys) (sym is)),
)

-- no more bytes come
pub cut_whole : (old now next : Option (List ℕ)) (bytes into : List ℕ) (spare limit : ℕ) (cut : Cut)
    (r : Result (Vec ℕ Global) ReadEnd) → HasRead old now bytes → ReadsPiece now next into spare (Err cut)
    → length bytes + spare ≡ limit → IsErr r × IsErrAnd r (λ e. e ≡ end_of cut) → ReadsAll old next limit r
cut_whole old now next bytes into spare limit cuts.TooLong (Err e) read piece sum (any, same) = subst
    (λ (x : ReadEnd). ReadsAll old next limit (Err x)) (sym same) (beyond old now next bytes spare limit read piece sum)
cut_whole old now next bytes into spare limit cuts.Fault (Err e) read piece sum (any, same) =
    subst (λ (x : ReadEnd). ReadsAll old next limit (Err x)) (sym same) tt
cut_whole old now next bytes into spare limit cut (Ok v) read piece sum (any, same) = absurd cc

-- one byte more than the limit was taken
one_more : (old next : Option (List ℕ)) (limit : ℕ) → TakesBeyond old next limit → TakesAtMost old next (limit + 1)
one_more None next limit took = tt
one_more (Some xs) next limit took = (limit + 1, omega arith, took.1)

-- the one byte too many, or none
pub cut_taken : (old now next : Option (List ℕ)) (bytes into : List ℕ) (spare limit : ℕ) (cut : Cut)
    → HasRead old now bytes → ReadsPiece now next into spare (Err cut) → length bytes + spare ≡ limit
    → TakesAtMost old next (limit + 1)
cut_taken old now next bytes into spare limit cuts.TooLong read piece sum =
    one_more old next limit (beyond old now next bytes spare limit read piece sum)
cut_taken old now next bytes into spare limit cuts.Fault read piece sum =
    taken_so_far old now next bytes (limit + 1) read piece (omega (arith, sum))
