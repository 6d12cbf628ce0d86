-- The front of a line says as much as the line.
use Rattle.std.proofs.Common.{◌≡◌, ℕ, ◌+◌, ◌^◌, ◌<◌, ◌≤◌, Bool, true, false, List, [], ◌∷◌, ◌++◌, length, take, Option}
use Rattle.std.proofs.Common.{Some, None, Result, refl, sym, ap, ◌∙◌, arith, inl, inr, take_all}
use Rattle.std.specs.Prelude.{◌==◌}
use Rattle.std.proofs.lemmas.Bool.{cases_lt}
use Rattle.std.proofs.lemmas.Bool.Decides.{nat_tests}
use Rattle.std.proofs.lemmas.List.{length-take, take-append-le}
use Rattle.trace_text.specs.declared.limit.TheConstants.{LIMIT as TRACE_LIMIT}
use Rattle.bus_trace.specs.declared.Row.{Row}
use Rattle.trace_text.specs.declared.stages.Stage.{Stage}
use Rattle.trace_text.specs.declared.stages.Stage.TheVariants as stages
use Rattle.trace_text.specs.declared.stages.State.{State}
use Rattle.trace_text.specs.declared.stages.State.TheVariants as states
use Rattle.trace_text.specs.declared.stages.Told.{Told}
use Rattle.trace_text.specs.declared.reader.TraceReader.{TraceReader}
use Rattle.trace_text.specs.Lines.{stage_after, stepped, moved, count_of, state_of}
use Rattle.trace_text.specs.Bytes.{Cut, cut_next, cut_of, told_at, end_told, end_of, IsReaderOf}
use Rattle.trace_text.proofs.Short.{long_same}

stage_front : (s : Stage) (line : List ℕ) → stage_after s (take 28 line) ≡ stage_after s line
stage_front s line =
    elim (cases_lt (length line) 28) [
      | inl lt ↦ ap (stage_after s) (take_all 28 line (omega arith))
      | inr le ↦ long_same s line (take 28 line) le (omega (arith, length-take 28 line))
    ]

pub stepped_front : (s : State) (line : List ℕ) → stepped s (take 28 line) ≡ stepped s line
stepped_front (states.Bad at) line = refl
stepped_front (states.Open stage count) line = ap (moved (count + 1)) (stage_front stage line)

pub end_front : (s : State) (rest : List ℕ) → end_told s (take 28 rest) ≡ end_told s rest
end_front (states.Bad at) rest = refl
end_front (states.Open stages.Start count) rest = refl
end_front (states.Open stages.Rows count) rest = refl
end_front (states.Open (stages.History t) count) rest = refl
end_front (states.Open (stages.Ended t) count) [] = refl
end_front (states.Open (stages.Ended t) count) (b ∷ rest) = refl

pub front_push : (line : List ℕ) (b : ℕ) → take 28 (take 28 line ++ b ∷ []) ≡ take 28 (line ++ b ∷ [])
front_push line b =
    elim (cases_lt (length line) 28) [
      | inl lt ↦ ap (λ (l : List ℕ). take 28 (l ++ b ∷ [])) (take_all 28 line (omega arith))
      | inr le ↦
          let len : length (take 28 line) ≡ 28 = omega (arith, length-take 28 line) in
          take-append-le 28 (take 28 line) (b ∷ []) (omega arith)
          ∙ (take_all 28 (take 28 line) (omega arith) ∙ sym (take-append-le 28 line (b ∷ []) le))
    ]

count_moved : (count : ℕ) (o : Option (Stage × Option Row)) → count_of (moved count o).0 ≡ count
count_moved count None = refl
count_moved count (Some s) = refl

count_step : (s : State) (line : List ℕ) → count_of (stepped s line).0 ≤ count_of s + 1
count_step (states.Bad at) line = omega arith
count_step (states.Open stage count) line = omega (arith, count_moved (count + 1) (stage_after stage line))

count_below : (lines : List (List ℕ)) → count_of (state_of lines) ≤ length lines
count_below [] = omega arith
count_below (line ∷ lines) = omega (arith, count_step (state_of lines) line, count_below lines)

cut_step : (c : Cut) (b : ℕ) (q : Bool) → (b == 10) ≡ q → length (cut_next c b).lines ≤ length c.lines + 1
cut_step c b true e = rw e (omega arith)
cut_step c b false e = rw e (omega arith)

cut_below : (bytes : List ℕ) → length (cut_of bytes).lines ≤ length bytes
cut_below [] = omega arith
cut_below (b ∷ bytes) = omega (arith, cut_step (cut_of bytes) b (b == 10) refl, cut_below bytes)

pub count_bytes : (bytes : List ℕ) (r : TraceReader) → IsReaderOf bytes r → count_of r.state ≤ length bytes
count_bytes bytes r h = rw h.state (omega (arith, count_below (cut_of bytes).lines, cut_below bytes))

-- ---- a byte more

abbrev pub reader : List ℕ → State → TraceReader
reader line state = record { line = line; state = state }

feed_is : (r : TraceReader) (text : List ℕ) (p : State × Told) (bytes : List ℕ) → IsReaderOf bytes r
    → length bytes < TRACE_LIMIT → text ≡ r.line → (count_of r.state + 1 < 2 ^ 32 → p ≡ stepped r.state text)
    → p ≡ stepped (state_of (cut_of bytes).lines) (cut_of bytes).rest
feed_is r text p bytes h few t exact =
    let count = count_bytes bytes r h in
    let same : stepped r.state text ≡ stepped (state_of (cut_of bytes).lines) (take 28 (cut_of bytes).rest) =
    λ i. stepped (h.state i) ((t ∙ h.line) i) in
    exact (omega arith) ∙ (same ∙ stepped_front (state_of (cut_of bytes).lines) (cut_of bytes).rest)

pub feed_kept : (r : TraceReader) (b : ℕ) (text line : List ℕ) (p : State × Told) → b ≡ 10 → text ≡ r.line
    → (count_of r.state + 1 < 2 ^ 32 → p ≡ stepped r.state text) → line ≡ [] → (bytes : List ℕ) → IsReaderOf bytes r
    → length bytes < TRACE_LIMIT → IsReaderOf (b ∷ bytes) (reader line p.0)
feed_kept r b text line p e t exact empty bytes h few =
    let at : (b == 10) ≡ true = grind (arith, nat_tests) in
    let next : cut_of (b ∷ bytes) ≡ record { lines = (cut_of bytes).rest ∷ (cut_of bytes).lines; rest = [] } = rw
    at refl in
    let p-is = feed_is r text p bytes h few t exact in
    record {
      line = empty ∙ sym (ap (λ (c : Cut). take 28 c.rest) next);
      state = ap (λ (x : State × Told). x.0) p-is ∙ sym (ap (λ (c : Cut). state_of c.lines) next);
    }

pub feed_told : (r : TraceReader) (b : ℕ) (text : List ℕ) (p : State × Told) → b ≡ 10 → text ≡ r.line
    → (count_of r.state + 1 < 2 ^ 32 → p ≡ stepped r.state text) → (bytes : List ℕ) → IsReaderOf bytes r
    → length bytes < TRACE_LIMIT → p.1 ≡ told_at bytes b
feed_told r b text p e t exact bytes h few =
    let at : (b == 10) ≡ true = grind (arith, nat_tests) in
    let next : told_at bytes b ≡ (stepped (state_of (cut_of bytes).lines) (cut_of bytes).rest).1 = rw at refl in
    ap (λ (x : State × Told). x.1) (feed_is r text p bytes h few t exact) ∙ sym next

pub byte_kept : (r : TraceReader) (b : ℕ) (line : List ℕ) → (b ≡ 10 → ⊥) → line ≡ take 28 (r.line ++ b ∷ [])
    → (bytes : List ℕ) → IsReaderOf bytes r → length bytes < TRACE_LIMIT → IsReaderOf (b ∷ bytes) (reader line r.state)
byte_kept r b line e more bytes h few =
    let at : (b == 10) ≡ false = grind (arith, nat_tests) in
    let next : cut_of (b ∷ bytes) ≡ record { lines = (cut_of bytes).lines; rest = (cut_of bytes).rest ++ b ∷ [] } = rw
    at refl in
    let front : take 28 (r.line ++ b ∷ []) ≡ take 28 ((cut_of bytes).rest ++ b ∷ []) =
    ap (λ (l : List ℕ). take 28 (l ++ b ∷ [])) h.line ∙ front_push (cut_of bytes).rest b in
    record {
      line = more ∙ (front ∙ sym (ap (λ (c : Cut). take 28 c.rest) next));
      state = h.state ∙ sym (ap (λ (c : Cut). state_of c.lines) next);
    }

pub ends : (r : TraceReader) (text : List ℕ) (result : Result ℕ ℕ) → text ≡ r.line
    → (count_of r.state < 2 ^ 31 → result ≡ end_told r.state text) → (bytes : List ℕ) → IsReaderOf bytes r
    → length bytes ≤ TRACE_LIMIT → result ≡ end_of bytes
ends r text result t exact bytes h few =
    let count = count_bytes bytes r h in
    let same : end_told r.state text ≡ end_told (state_of (cut_of bytes).lines) (take 28 (cut_of bytes).rest) =
    λ i. end_told (h.state i) ((t ∙ h.line) i) in
    exact (omega arith) ∙ (same ∙ end_front (state_of (cut_of bytes).lines) (cut_of bytes).rest)
