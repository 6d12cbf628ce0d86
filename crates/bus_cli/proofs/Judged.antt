-- What the word `judge` says of the bytes that were read.
use Rattle.std.proofs.Common.{ℕ, ◌≡◌, ◌+◌, ◌<◌, ◌≤◌, List, [], ◌∷◌, ◌++◌, Option, Some, None, Result, Ok, Err, length}
use Rattle.std.proofs.Common.{take, reverse, refl, sym, ap, subst, ◌∙◌, arith}
use Rattle.std.specs.Prelude.{IfSome}
use Rattle.std.specs.Result.{IsErr, IsErrAnd}
use Rattle.std.proofs.lemmas.Bool.{lt-ltb}
use Rattle.std.proofs.lemmas.List.{reverse-append, length-reverse, length-take-le, length-append}
use Rattle.trace_text.specs.declared.limit.TheConstants.{LIMIT as TRACE_LIMIT}
use Rattle.bus_base.specs.Taken.{TakesFront}
use Rattle.bus_trace.specs.declared.Row.{Row}
use Rattle.bus_rules.specs.declared.verdict.Verdict.{Verdict}
use Rattle.bus_rules.specs.Rules.{judged_whole}
use Rattle.trace_text.specs.Bytes.{rows_of, end_of}
use Rattle.trace_text.specs.Whole.{trace_of, with_rows}
use Rattle.bus_cli.specs.Lines.{Writing, writing, SaysLine, trace_line}
use Rattle.bus_cli.specs.Hearing.{verdict_at, heard_verdict, IsHearingOf}
use Rattle.bus_cli.specs.declared.hearing.Hearing.{Hearing}
use Rattle.bus_cli.specs.Judging.{verdict_of, verdict_on, SaysVerdict, JudgeSays, TellsVerdict, JudgeTells, HearsAll}
use Rattle.bus_base.specs.Pieces.{ReadsPiece}
use Rattle.bus_base.specs.declared.reading.Cut.{Cut}
use Rattle.bus_base.specs.declared.reading.Cut.TheVariants.{TooLong, Fault}
use Rattle.bus_cli.specs.declared.status.Status.{Status}
use Rattle.bus_cli.specs.declared.status.Status.TheVariants.{Done, Words, Refused, Read, Write, Memory, Broken}
use Rattle.bus_cli.specs.declared.status.Status.TheVariants.{BadTrace, BadDump}
use Rattle.bus_base.proofs.ReadSoFar.{HasRead, read_more, beyond}
use Rattle.trace_text.proofs.KeptRows.{short_is}
use Rattle.bus_cli.proofs.TooLong.{map_some, first_of}
use Rattle.bus_cli.proofs.AllRead.{all_read}

-- ---- the verdict on bytes that were heard, the newest first

back : {A : Type 0} (xs : List A) → reverse (reverse xs) ≡ xs
back [] = refl
back (x ∷ xs) = ap (λ (ys : List _). reverse ys) (reverse-append (x ∷ []) xs) ∙ reverse-append (reverse xs) (x ∷ [])
    ∙ ap (λ (ys : List _). x ∷ ys) (back xs)

of_end : (bytes : List ℕ) (end : Result ℕ ℕ)
    → verdict_of (with_rows (reverse (rows_of bytes)) end) ≡ verdict_at bytes end
of_end bytes (Ok end) =
    ap (λ (rows : List Row). let r : Result Verdict ℕ = Ok (judged_whole rows end) in r) (back (rows_of bytes))
of_end bytes (Err line) = refl

pub heard_is : (bytes : List ℕ) → length bytes ≤ TRACE_LIMIT → heard_verdict (reverse bytes) ≡ verdict_on bytes
heard_is bytes few = sym (ap (λ (r : Result (List Row × ℕ) ℕ). verdict_of r) (short_is bytes few)
    ∙ of_end (reverse bytes) (end_of (reverse bytes)))

-- ---- the end of the input

-- it is over
pub hears_all : (old now next : Option (List ℕ)) (bytes into : List ℕ) (n : ℕ) (v : Result Verdict ℕ)
    → HasRead old now bytes → IfSome now (λ ys. TakesFront ys next into n) → n ≡ 0
    → 0 < length into → length bytes ≤ TRACE_LIMIT → v ≡ heard_verdict (reverse bytes)
    → IfSome old (λ xs. (verdict_on xs ≡ v) × (next ≡ Some []))
hears_all old now next bytes into n v so_far took none room few is = map_some old
    (λ xs. (xs ≡ bytes) × (next ≡ Some [])) (λ xs. (verdict_on xs ≡ v) × (next ≡ Some []))
    (λ xs h. (ap (λ (ys : List ℕ). verdict_on ys) h.0 ∙ sym (heard_is bytes few) ∙ sym is, h.1))
    (all_read old now next bytes into n so_far took none room)

-- no more bytes come
pub hears_cut :
    (old now next : Option (List ℕ)) (bytes into : List ℕ) (spare : ℕ) (cut : Cut) (r : Result (Result Verdict ℕ) Cut)
    → HasRead old now bytes → ReadsPiece now next into spare (Err cut) → length bytes + spare ≡ TRACE_LIMIT
    → IsErr r × IsErrAnd r (λ e. e ≡ cut) → HearsAll old next r
hears_cut old now next bytes into spare TooLong (Err e) so_far piece sum (any, same) = subst
    (λ (x : Cut). HearsAll old next (Err x)) (sym same) (beyond old now next bytes spare TRACE_LIMIT so_far piece sum)
hears_cut old now next bytes into spare Fault (Err e) so_far piece sum (any, same) =
    subst (λ (x : Cut). HearsAll old next (Err x)) (sym same) tt
hears_cut old now next bytes into spare cut (Ok v) so_far piece sum (any, same) = absurd cc

-- ---- what is said of the verdict is said of the input

of_input : (status : Status) (input : Option (List ℕ)) (v : Result Verdict ℕ) (w : Writing)
    → IfSome input (λ xs. verdict_on xs ≡ v) → SaysVerdict status (Some v) w → JudgeSays status input w
of_input status (Some xs) v w same says =
    subst (λ (u : Result Verdict ℕ). SaysVerdict status (Some u) w) (sym same) says
of_input Done None v w same says = (tt, says.1)
of_input Write None v w same says = (tt, says.1)
of_input Broken None v w same says = (says.0, says.1, tt, says.3)
of_input BadTrace None v w same says = (says.0, tt, says.2)
of_input Words None v w same says = says
of_input Read None v w same says = says
of_input Memory None v w same says = says
of_input Refused None v w same says = says
of_input BadDump None v w same says = says

verdict_told : (input left : Option (List ℕ)) (v : Result Verdict ℕ) → HearsAll input left (Ok v)
    → IfSome input (λ xs. verdict_on xs ≡ v)
verdict_told None left v h = tt
verdict_told (Some xs) left v h = h.0

pub said_of_all :
    (status : Status) (input left : Option (List ℕ)) (v : Result Verdict ℕ) (old written : Option (List ℕ)) (f g : ℕ)
    → HearsAll input left (Ok v) → IfSome old (λ before. SaysVerdict status (Some v) (writing before written f g))
    → IfSome old (λ before. JudgeSays status input (writing before written f g))
said_of_all status input left v old written f g h says = map_some old (λ before. SaysVerdict status
    (Some v) (writing before written f g)) (λ before. JudgeSays status input (writing before written f g))
    (λ before. of_input status input v (writing before written f g) (verdict_told input left v h)) says

pub told_of_all : (status : Status) (input left : Option (List ℕ)) (v : Result Verdict ℕ) → HearsAll input left (Ok v)
    → TellsVerdict status v → IfSome input (λ xs. JudgeTells status xs)
told_of_all status None left v h tells = tt
told_of_all status (Some xs) left v h tells = subst (λ (w : Result Verdict ℕ). TellsVerdict status w) (sym h.0) tells

-- ---- more bytes than the limit

pub too_long : (bytes : List ℕ) → TRACE_LIMIT < length bytes → verdict_on bytes ≡ Err 0
too_long bytes h =
    let e : trace_of bytes ≡ Err 0 = first_of _ _ _ (lt-ltb TRACE_LIMIT (length bytes) h) in
    λ i. verdict_of (e i)

abbrev IsLong : Option (List ℕ) → Type 0
IsLong input = IfSome input (λ xs. TRACE_LIMIT < length xs)

all_long : (input left : Option (List ℕ)) → HearsAll input left (Err TooLong)
    → IfSome input (λ xs. TRACE_LIMIT < length xs)
all_long None left h = tt
all_long (Some xs) left h = h.0

pub long_of : (input left : Option (List ℕ)) (end : Cut) → end ≡ TooLong → HearsAll input left (Err end)
    → IfSome input (λ xs. TRACE_LIMIT < length xs)
long_of input left end e h =
    let P : Cut → Type 0 = λ r. HearsAll input left (Err r) in
    all_long input left (subst P e h)

pub told_long : (input : Option (List ℕ)) → IfSome input (λ xs. TRACE_LIMIT < length xs)
    → IfSome input (λ xs. JudgeTells BadTrace xs)
told_long input h =
    map_some input (λ xs. TRACE_LIMIT < length xs) (λ xs. JudgeTells BadTrace xs) (λ xs long. (0, too_long xs long)) h

said_beyond : (input : Option (List ℕ)) (text : List ℕ) (w : Writing) → IsLong input → text ≡ trace_line 0
    → SaysLine text w → JudgeSays BadTrace input w
said_beyond None text w long same says = (0, tt, subst (λ (x : List ℕ). SaysLine x w) same says)
said_beyond (Some xs) text w long same says = (0, too_long xs long, subst (λ (x : List ℕ). SaysLine x w) same says)

pub said_long : (input : Option (List ℕ)) (text : List ℕ) (old written : Option (List ℕ)) (f g : ℕ)
    → IfSome input (λ xs. TRACE_LIMIT < length xs) → text ≡ trace_line 0
    → IfSome old (λ before. SaysLine text (writing before written f g))
    → IfSome old (λ before. JudgeSays BadTrace input (writing before written f g))
said_long input text old written f g long same says =
    map_some old (λ before. SaysLine text (writing before written f g)) (λ before. JudgeSays BadTrace input
    (writing before written f g)) (λ before. said_beyond input text (writing before written f g) long same) says

-- ---- a piece more

pub hears_more : (old now next : Option (List ℕ)) (bytes into piece : List ℕ) (n count : ℕ) (j : Hearing)
    → HasRead old now bytes → IfSome now (λ ys. TakesFront ys next into n)
    → length bytes ≡ count → piece ≡ take n into → n ≤ length into → count + n ≤ TRACE_LIMIT
    → (length (reverse bytes) + length piece ≤ TRACE_LIMIT → IsHearingOf (reverse piece ++ reverse bytes) j)
    → (xs : List ℕ) × HasRead old next xs × (length xs ≡ count + n) × IsHearingOf (reverse xs) j
hears_more old now next bytes into piece n count j read took len same within few heard =
    let size : length piece ≡ n = ap (λ (ys : List ℕ). length ys) same ∙ length-take-le n into within in
    let all : reverse piece ++ reverse bytes ≡ reverse (bytes ++ take n into) =
    ap (λ (ys : List ℕ). reverse ys ++ reverse bytes) same ∙ sym (reverse-append bytes (take n into)) in (
      bytes ++ take n into,
      read_more old now next bytes into n read took,
      length-append bytes (take n into) ∙ (λ i. len i + (length-take-le n into within) i),
      subst (λ (xs : List ℕ). IsHearingOf xs j) all (heard (omega (arith, length-reverse bytes))),
    )
