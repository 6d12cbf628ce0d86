-- What the word `unvcd` says of the bytes that were taken.
use Rattle.std.proofs.Common.{ℕ, ◌≡◌, ◌+◌, ◌<◌, ◌≤◌, Bool, true, false, cond, List, [], ◌++◌, Option, Some, None}
use Rattle.std.proofs.Common.{Result, Ok, Err, length, take, refl, sym, ap, subst, ◌∙◌, arith}
use Rattle.std.specs.Prelude.{IfSome, nat_lt}
use Rattle.std.specs.Result.{IsErr, IsErrAnd}
use Rattle.std.proofs.lemmas.Bool.{lt-ltb}
use Rattle.std.proofs.lemmas.Bool.Decides.{nat_tests}
use Rattle.std.proofs.lemmas.List.{length-take-le, length-append}
use Rattle.bus_base.specs.Taken.{TakesFront}
use Rattle.bus_base.specs.Pieces.{ReadsPiece, end_of}
use Rattle.bus_base.specs.declared.reading.Cut.{Cut}
use Rattle.bus_base.specs.declared.reading.Cut.TheVariants as cuts
use Rattle.bus_base.specs.declared.reading.ReadEnd.{ReadEnd}
use Rattle.bus_base.specs.declared.reading.ReadEnd.TheVariants as ends
use Rattle.bus_base.proofs.ReadSoFar.{HasRead, read_more, beyond}
use Rattle.bus_trace.specs.declared.rows.Row.{Row}
use Rattle.vcd_text.specs.declared.limit.TheConstants.{LIMIT as DUMP_LIMIT}
use Rattle.vcd_text.specs.declared.reader.VcdReader.{VcdReader}
use Rattle.vcd_text.specs.declared.whole.VcdBad.{VcdBad}
use Rattle.vcd_text.specs.declared.whole.VcdBad.TheVariants.{At}
use Rattle.vcd_text.specs.Reading.{no_bytes, taken, read_of, vcd_of, Answers}
use Rattle.vcd_text.specs.Kept.{ReadsAs}
use Rattle.vcd_text.proofs.ReadAlike.{reads_through, reads_after}
use Rattle.bus_cli.specs.Lines.{Writing, writing, SaysLine, dump_line}
use Rattle.bus_cli.specs.Unvcd.{dump_on, SaysRead, UnvcdSays, TellsRead, UnvcdTells, TakesDump}
use Rattle.bus_cli.specs.declared.status.Status.{Status}
use Rattle.bus_cli.specs.declared.status.Status.TheVariants.{Done, Words, Refused, Read, Write, Memory, Broken}
use Rattle.bus_cli.specs.declared.status.Status.TheVariants.{BadTrace, BadDump}
use Rattle.bus_cli.proofs.TooLong.{map_some, first_of}
use Rattle.bus_cli.proofs.AllRead.{all_read}

-- ---- a piece more

pub takes_more : (old now next : Option (List ℕ)) (bytes into piece : List ℕ) (n count : ℕ) (r s : VcdReader)
    → HasRead old now bytes → IfSome now (λ ys. TakesFront ys next into n) → length bytes ≡ count
    → piece ≡ take n into → n ≤ length into → ReadsAs r (taken no_bytes bytes) → ReadsAs s (taken r piece)
    → (xs : List ℕ) × HasRead old next xs × (length xs ≡ count + n) × ReadsAs s (taken no_bytes xs)
takes_more old now next bytes into piece n count r s read took len same within before after = (
  bytes ++ take n into,
  read_more old now next bytes into n read took,
  length-append bytes (take n into) ∙ (λ i. len i + (length-take-le n into within) i),
  reads_after no_bytes r s bytes (take n into) before
      (reads_through s (taken r piece) (taken r (take n into)) after (ap (taken r) same)),
)

-- ---- the end of the input

pub takes_all : (old now next : Option (List ℕ)) (bytes into : List ℕ) (n : ℕ) (r : VcdReader) → HasRead old now bytes
    → IfSome now (λ ys. TakesFront ys next into n) → n ≡ 0 → 0 < length into → length bytes ≤ DUMP_LIMIT
    → ReadsAs r (taken no_bytes bytes) → TakesDump old next (Ok r)
takes_all None now next bytes into n r so_far took none room few is = tt
takes_all (Some xs) now next bytes into n r so_far took none room few is =
    let (all, left) = all_read (Some xs) now next bytes into n so_far took none room in
    (is [] ∙ ap vcd_of (sym all), omega (arith, few, ap (λ (ys : List ℕ). length ys) all), left)

-- no more bytes come
pub takes_cut :
    (old now next : Option (List ℕ)) (bytes into : List ℕ) (spare : ℕ) (cut : Cut) (r : Result VcdReader ReadEnd)
    → HasRead old now bytes → ReadsPiece now next into spare (Err cut) → length bytes + spare ≡ DUMP_LIMIT
    → IsErr r × IsErrAnd r (λ e. e ≡ end_of cut) → TakesDump old next r
takes_cut old now next bytes into spare cuts.TooLong (Err e) so_far piece sum (any, same) = subst
    (λ (x : ReadEnd). TakesDump old next (Err x)) (sym same)
    (beyond old now next bytes spare DUMP_LIMIT so_far piece sum)
takes_cut old now next bytes into spare cuts.Fault (Err e) so_far piece sum (any, same) =
    subst (λ (x : ReadEnd). TakesDump old next (Err x)) (sym same) tt
takes_cut old now next bytes into spare cut (Ok v) so_far piece sum (any, same) = absurd cc

-- ---- what was read is what the input is

not_first : {A : Type 0} (q : Bool) (x y : A) → q ≡ false → cond q x y ≡ y
not_first true x y e = absurd cc
not_first false x y e = refl

read_is : (bytes : List ℕ) (r : VcdReader) → length bytes ≤ DUMP_LIMIT → read_of r ≡ vcd_of bytes
    → read_of r ≡ dump_on bytes
read_is bytes r few is =
    let short : nat_lt DUMP_LIMIT (length bytes) ≡ false = grind (arith, nat_tests) in
    is ∙ sym (not_first (nat_lt DUMP_LIMIT (length bytes)) (Err 0) (vcd_of bytes) short)

pub told_of_all : (status : Status) (input left : Option (List ℕ)) (r : VcdReader) → TakesDump input left (Ok r)
    → TellsRead status (read_of r) → IfSome input (λ xs. UnvcdTells status xs)
told_of_all status None left r h tells = tt
told_of_all status (Some xs) left r h tells =
    subst (λ (x : Result (List Row × ℕ) ℕ). TellsRead status x) (read_is xs r h.1 h.0) tells

of_any : (status : Status) (read : Result (List Row × ℕ) ℕ) (w : Writing) → SaysRead status (Some read) w
    → SaysRead status None w
of_any Done read w says = (says.0, says.1, tt, says.3)
of_any Write read w says = (says.0, says.1, tt, says.3)
of_any BadDump read w says = (says.0, tt, says.2)
of_any Words read w says = says
of_any Read read w says = says
of_any Memory read w says = says
of_any Refused read w says = elim says [ ]
of_any Broken read w says = elim says [ ]
of_any BadTrace read w says = elim says [ ]

of_input : (status : Status) (input left : Option (List ℕ)) (r : VcdReader) (w : Writing) → TakesDump input left (Ok r)
    → SaysRead status (Some (read_of r)) w → UnvcdSays status input w
of_input status None left r w h says = of_any status (read_of r) w says
of_input status (Some xs) left r w h says =
    subst (λ (x : Result (List Row × ℕ) ℕ). SaysRead status (Some x) w) (read_is xs r h.1 h.0) says

pub said_of_all :
    (status : Status) (input left : Option (List ℕ)) (r : VcdReader) (old written : Option (List ℕ)) (f g : ℕ)
    → TakesDump input left (Ok r)
    → IfSome old (λ before. SaysRead status (Some (read_of r)) (writing before written f g))
    → IfSome old (λ before. UnvcdSays status input (writing before written f g))
said_of_all status input left r old written f g h says = map_some old (λ before. SaysRead status (Some (read_of r))
    (writing before written f g)) (λ before. UnvcdSays status input (writing before written f g))
    (λ before. of_input status input left r (writing before written f g) h) says

-- ---- a token that breaks the form

pub bad_at : (bad : VcdBad) (line : ℕ) (read : Result (List Row × ℕ) ℕ) → bad ≡ At line → Answers (Err bad) read
    → read ≡ Err line
bad_at bad line read e h = subst (λ (b : VcdBad). Answers (Err b) read) e h

says_bad : (read : Result (List Row × ℕ) ℕ) (text : List ℕ) (line : ℕ) (w : Writing) → read ≡ Err line
    → text ≡ dump_line line → SaysLine text w → SaysRead BadDump (Some read) w
says_bad read text line w is same says = (line, is, subst (λ (x : List ℕ). SaysLine x w) same says)

pub said_bad : (read : Result (List Row × ℕ) ℕ) (text : List ℕ) (line : ℕ) (old written : Option (List ℕ)) (f g : ℕ)
    → read ≡ Err line → text ≡ dump_line line → IfSome old (λ before. SaysLine text (writing before written f g))
    → IfSome old (λ before. SaysRead BadDump (Some read) (writing before written f g))
said_bad read text line old written f g is same says =
    map_some old (λ before. SaysLine text (writing before written f g)) (λ before. SaysRead BadDump (Some read)
    (writing before written f g)) (λ before. says_bad read text line (writing before written f g) is same) says

-- ---- more bytes than the limit

too_long : (bytes : List ℕ) → DUMP_LIMIT < length bytes → dump_on bytes ≡ Err 0
too_long bytes h = first_of _ _ _ (lt-ltb DUMP_LIMIT (length bytes) h)

all_long : (input left : Option (List ℕ)) → TakesDump input left (Err ends.TooLong)
    → IfSome input (λ xs. DUMP_LIMIT < length xs)
all_long None left h = tt
all_long (Some xs) left h = h.0

pub long_of : (input left : Option (List ℕ)) (end : ReadEnd) → end ≡ ends.TooLong → TakesDump input left (Err end)
    → IfSome input (λ xs. DUMP_LIMIT < length xs)
long_of input left end e h = all_long input left (subst (λ (r : ReadEnd). TakesDump input left (Err r)) e h)

pub told_long : (input : Option (List ℕ)) → IfSome input (λ xs. DUMP_LIMIT < length xs)
    → IfSome input (λ xs. UnvcdTells BadDump xs)
told_long input h =
    map_some input (λ xs. DUMP_LIMIT < length xs) (λ xs. UnvcdTells BadDump xs) (λ xs long. (0, too_long xs long)) h

said_beyond : (input : Option (List ℕ)) (text : List ℕ) (w : Writing) → IfSome input (λ xs. DUMP_LIMIT < length xs)
    → text ≡ dump_line 0 → SaysLine text w → UnvcdSays BadDump input w
said_beyond None text w long same says = (0, tt, subst (λ (x : List ℕ). SaysLine x w) same says)
said_beyond (Some xs) text w long same says = (0, too_long xs long, subst (λ (x : List ℕ). SaysLine x w) same says)

pub said_long : (input : Option (List ℕ)) (text : List ℕ) (old written : Option (List ℕ)) (f g : ℕ)
    → IfSome input (λ xs. DUMP_LIMIT < length xs) → text ≡ dump_line 0
    → IfSome old (λ before. SaysLine text (writing before written f g))
    → IfSome old (λ before. UnvcdSays BadDump input (writing before written f g))
said_long input text old written f g long same says =
    map_some old (λ before. SaysLine text (writing before written f g)) (λ before. UnvcdSays BadDump input
    (writing before written f g)) (λ before. said_beyond input text (writing before written f g) long same) says
