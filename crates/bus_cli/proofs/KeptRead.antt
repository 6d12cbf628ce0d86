-- What a trace says that was read through a buffer.
use Rattle.std.proofs.Common.{ℕ, ◌≡◌, ◌+◌, ◌<◌, ◌≤◌, List, [], ◌++◌, Option, Some, None, Result, Ok, Err, length, take}
use Rattle.std.proofs.Common.{reverse, sym, ap, subst, ◌∙◌, arith}
use Rattle.std.specs.Prelude.{IfSome}
use Rattle.std.specs.Result.{IsErr, IsErrAnd}
use Rattle.std.proofs.lemmas.List.{reverse-append, length-reverse, length-take-le, length-append}
use Rattle.bus_base.specs.Taken.{TakesFront}
use Rattle.bus_base.specs.Pieces.{ReadsPiece, end_of}
use Rattle.bus_base.specs.declared.reading.Cut.{Cut}
use Rattle.bus_base.specs.declared.reading.Cut.TheVariants as cuts
use Rattle.bus_base.specs.declared.reading.ReadEnd.{ReadEnd}
use Rattle.bus_base.specs.declared.reading.ReadEnd.TheVariants as ends
use Rattle.bus_base.proofs.ReadSoFar.{HasRead, read_more, beyond}
use Rattle.trace_text.specs.declared.limit.TheConstants.{LIMIT as TRACE_LIMIT}
use Rattle.trace_text.specs.declared.kept_trace.KeptTrace.{KeptTrace}
use Rattle.trace_text.specs.declared.whole.Trace.{Trace}
use Rattle.trace_text.specs.Whole.{IsKeptOf, kept_of, trace_of, trace_told}
use Rattle.trace_text.proofs.KeptRows.{short_is}
use Rattle.bus_cli.specs.Kept.{KeepsAll}
use Rattle.bus_cli.proofs.TooLong.{map_some, IsLong}
use Rattle.bus_cli.proofs.AllRead.{all_read}

-- ---- a piece more

pub keeps_more : (old now next : Option (List ℕ)) (bytes into piece : List ℕ) (n count : ℕ) (k : KeptTrace)
    → HasRead old now bytes → IfSome now (λ ys. TakesFront ys next into n)
    → length bytes ≡ count → piece ≡ take n into → n ≤ length into → count + n ≤ TRACE_LIMIT
    → (length (reverse bytes) + length piece ≤ TRACE_LIMIT → IsKeptOf (reverse piece ++ reverse bytes) k)
    → (xs : List ℕ) × HasRead old next xs × (length xs ≡ count + n) × IsKeptOf (reverse xs) k
keeps_more old now next bytes into piece n count k read took len same within few kept =
    let size : length piece ≡ n = ap (λ (ys : List ℕ). length ys) same ∙ length-take-le n into within in
    let all : reverse piece ++ reverse bytes ≡ reverse (bytes ++ take n into) =
    ap (λ (ys : List ℕ). reverse ys ++ reverse bytes) same ∙ sym (reverse-append bytes (take n into)) in (
      bytes ++ take n into,
      read_more old now next bytes into n read took,
      length-append bytes (take n into) ∙ (λ i. len i + (length-take-le n into within) i),
      subst (λ (xs : List ℕ). IsKeptOf xs k) all (kept (omega (arith, size, len, few, length-reverse bytes))),
    )

-- ---- the end of the input

-- it is over
pub keeps_all : (old now next : Option (List ℕ)) (bytes into : List ℕ) (n : ℕ) (read : Result Trace ℕ)
    → HasRead old now bytes → IfSome now (λ ys. TakesFront ys next into n) → n ≡ 0 → 0 < length into
    → length bytes ≤ TRACE_LIMIT → trace_told read ≡ kept_of (reverse bytes) → KeepsAll old next (Ok read)
keeps_all old now next bytes into n read so_far took none room few is = map_some old
    (λ xs. (xs ≡ bytes) × (next ≡ Some [])) (λ xs. (trace_of xs ≡ trace_told read) × (next ≡ Some []))
    (λ xs h. (ap (λ (ys : List ℕ). trace_of ys) h.0 ∙ short_is bytes few ∙ sym is, h.1))
    (all_read old now next bytes into n so_far took none room)

-- no more bytes come
pub keeps_cut :
    (old now next : Option (List ℕ)) (bytes into : List ℕ) (spare : ℕ) (cut : Cut) (r : Result (Result Trace ℕ) ReadEnd)
    → HasRead old now bytes → ReadsPiece now next into spare (Err cut) → length bytes + spare ≡ TRACE_LIMIT
    → IsErr r × IsErrAnd r (λ e. e ≡ end_of cut) → KeepsAll old next r
keeps_cut old now next bytes into spare cuts.TooLong (Err e) so_far piece sum (any, same) = subst
    (λ (x : ReadEnd). KeepsAll old next (Err x)) (sym same)
    (beyond old now next bytes spare TRACE_LIMIT so_far piece sum)
keeps_cut old now next bytes into spare cuts.Fault (Err e) so_far piece sum (any, same) =
    subst (λ (x : ReadEnd). KeepsAll old next (Err x)) (sym same) tt
keeps_cut old now next bytes into spare cut (Ok v) so_far piece sum (any, same) = absurd cc

-- ---- what was read is what the input says

pub kept_is : (input left : Option (List ℕ)) (read : Result Trace ℕ) → KeepsAll input left (Ok read)
    → IfSome input (λ xs. trace_of xs ≡ trace_told read)
kept_is None left read h = tt
kept_is (Some xs) left read h = h.0

-- ---- more bytes than the limit

all_long : (input left : Option (List ℕ)) → KeepsAll input left (Err ends.TooLong) → IsLong TRACE_LIMIT input
all_long None left h = tt
all_long (Some xs) left h = h.0

pub long_of : (input left : Option (List ℕ)) (end : ReadEnd) → end ≡ ends.TooLong → KeepsAll input left (Err end)
    → IsLong TRACE_LIMIT input
long_of input left end e h = all_long input left (subst (λ (r : ReadEnd). KeepsAll input left (Err r)) e h)
