-- Bytes whose rows are kept.
use Rattle.std.proofs.Common.{ℕ, ◌≡◌, ◌∙◌, Bool, true, false, cond, List, [], ◌∷◌, ◌++◌, length, ◌≤◌, reverse, Result}
use Rattle.std.proofs.Common.{Ok, Err, refl, sym, ap, subst, arith}
use Rattle.std.specs.Prelude.{nat_lt}
use Rattle.std.specs.Result.{is_err, OnOk}
use Rattle.std.proofs.lemmas.Bool.Decides.{nat_tests}
use Rattle.std.proofs.lemmas.List.{append-nil, length-reverse, reverse-append, reverse-reverse}
use Rattle.bus_trace.specs.declared.Row.{Row}
use Rattle.trace_text.specs.declared.limit.TheConstants.{LIMIT as TRACE_LIMIT}
use Rattle.trace_text.specs.declared.kept_trace.KeptTrace.{KeptTrace}
use Rattle.trace_text.specs.declared.reader.TraceReader.{TraceReader}
use Rattle.trace_text.specs.declared.whole.Trace.{Trace}
use Rattle.trace_text.specs.Bytes.{IsReaderOf, end_of, rows_of}
use Rattle.trace_text.specs.Whole.{IsKeptOf, kept_of, trace_of, trace_told, with_rows}

abbrev pub kept : TraceReader → List Row → KeptTrace
kept reader rows = record { reader = reader; rows = rows }

-- a row more
pub kept_more : (read next : List ℕ) (row : Row) (old new : List Row) (reader : TraceReader) → new ≡ old ++ row ∷ []
    → reverse old ≡ rows_of read → rows_of next ≡ row ∷ rows_of read → IsReaderOf next reader
    → IsKeptOf next (kept reader new)
kept_more read next row old new reader added before is taken = record {
  reader = taken;
  rows = ap (λ (rows : List Row). reverse rows) added ∙ reverse-append old (row ∷ [])
      ∙ ap (λ (rows : List Row). row ∷ rows) before ∙ sym is;
}

-- the end
pub ended : (rows : List Row) (bytes : List ℕ) (read : Result ℕ ℕ) (end : ℕ) → reverse rows ≡ rows_of bytes
    → read ≡ end_of bytes → read ≡ Ok end → (let r : Result (List Row × ℕ) ℕ = Ok (rows, end) in r) ≡ kept_of bytes
ended rows bytes read end is at e =
    (λ i. with_rows (all i) (last i))
  where
    all : rows ≡ reverse (rows_of bytes)
    all = sym (reverse-reverse rows) ∙ ap (λ (l : List Row). reverse l) is

    last : Ok end ≡ end_of bytes
    last = sym e ∙ at

pub broken : (rows : List Row) (bytes : List ℕ) (read : Result ℕ ℕ) (line : ℕ) → read ≡ end_of bytes → read ≡ Err line
    → (let r : Result (List Row × ℕ) ℕ = Err line in r) ≡ kept_of bytes
broken rows bytes read line at e = λ i. with_rows (reverse (rows_of bytes)) ((sym e ∙ at) i)

-- a text within the limit
not_long : (q : Bool) (x y : Result (List Row × ℕ) ℕ) → q ≡ false → cond q x y ≡ y
not_long true x y e = absurd cc
not_long false x y e = refl

pub short_is : (bytes : List ℕ) → length bytes ≤ TRACE_LIMIT → trace_of bytes ≡ kept_of (reverse bytes)
short_is bytes few =
    not_long (nat_lt TRACE_LIMIT (length bytes)) (Err 0) (kept_of (reverse bytes)) (grind (arith, nat_tests))

pub where_kept : {T E P : Type 0} (r : Result T E) → is_err r ≡ false → OnOk r P → P
where_kept (Ok x) e p = p
where_kept (Err x) e p = absurd (cc)

-- what such a text says, all of which was taken
pub all_kept : (text : List ℕ) (k : KeptTrace) (read : Result Trace ℕ) → length text ≤ TRACE_LIMIT
    → IsKeptOf (reverse text ++ []) k
    → ((bytes : List ℕ) → IsKeptOf bytes k → length bytes ≤ TRACE_LIMIT → trace_told read ≡ kept_of bytes)
    → trace_of text ≡ trace_told read
all_kept text k read few taken says =
    let bytes : List ℕ = reverse text in
    let all : IsKeptOf bytes k = subst (λ (l : List ℕ). IsKeptOf l k) (append-nil bytes) taken in
    short_is text few ∙ sym (says bytes all (omega (arith, few, length-reverse text)))
