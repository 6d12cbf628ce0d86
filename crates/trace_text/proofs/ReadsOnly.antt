-- What is read as a trace is rows that the bus can have, and an end below 2 ^ 63.
use Rattle.std.proofs.Common.{◌≡◌, ℕ, ◌+◌, ◌-◌, ◌^◌, ◌<◌, ◌≤◌, Bool, true, false, cond, ◌&&◌, List, [], ◌∷◌, length}
use Rattle.std.proofs.Common.{reverse, Option, Some, None, Result, Ok, Err, refl, sym, subst, arith}
use Rattle.std.specs.Prelude.{◌==◌, nat_le, nat_lt, codes, IfOk}
use Rattle.std.specs.List.{AllByRecursion}
use Rattle.std.proofs.lemmas.Bool.Decides.{nat_tests}
use Rattle.std.proofs.lemmas.List.{reverse-reverse}
use Rattle.text_words.specs.Words.{after, number_at, digit_at, is_hex, is_whole}
use Rattle.text_words.proofs.Only.{bind_some, cond_some, digit_only}
use Rattle.trace_text.specs.declared.limit.TheConstants.{LIMIT as TRACE_LIMIT}
use Rattle.bus_trace.specs.LineSet.{set_of}
use Rattle.bus_trace.specs.OfTrace.{IsKind, IsRow}
use Rattle.bus_trace.specs.declared.Kind.{Kind}
use Rattle.bus_trace.specs.declared.Kind.TheVariants.{Drives, Fault}
use Rattle.bus_trace.specs.declared.Row.{Row}
use Rattle.trace_text.specs.declared.stages.Stage.{Stage}
use Rattle.trace_text.specs.declared.stages.Stage.TheVariants as stages
use Rattle.trace_text.specs.declared.stages.State.{State}
use Rattle.trace_text.specs.declared.stages.State.TheVariants as states
use Rattle.trace_text.specs.declared.stages.Told.{Told}
use Rattle.trace_text.specs.declared.stages.Told.TheVariants as tolds
use Rattle.trace_text.specs.declared.whole.Trace.{Trace}
use Rattle.trace_text.specs.declared.whole.TraceBad.{TraceBad}
use Rattle.trace_text.specs.Readable.{FitsBus, IsTraceRow}
use Rattle.trace_text.specs.Lines.{below, value_of, kind_at, row_at, end_at, is_first, is_history, row_or_end, moved}
use Rattle.trace_text.specs.Lines.{stepped, state_of}
use Rattle.trace_text.specs.Bytes.{Cut, cut_of, quiet, told_next, told_at, end_told, end_of, rows_next, rows_of}
use Rattle.trace_text.specs.Whole.{with_rows, trace_of, Answers}
use Rattle.trace_text.proofs.Short.{below_is}
use Rattle.bus_base.proofs.Tests.{all_reverse}

-- ---- rows

record KindFits (k : Kind) : Type 0 where
  named : IsKind k
  lines : FitsBus k

kind_only : (bytes : List ℕ) (k : Kind) → kind_at bytes ≡ Some k → KindFits k
kind_only [] k e = absurd cc
kind_only (a ∷ []) k e = absurd cc
kind_only (a ∷ b ∷ []) k e =
    let p = cond_some (a == 102 && nat_le 48 b && nat_le b 56) (Fault (b - 48)) k e in
    let test : (a == 102 && nat_le 48 b && nat_le b 56) ≡ true = p.0 in
    let high : b ≤ 56 = grind (arith, nat_tests) in
    subst KindFits p.1 (record { named = omega arith; lines = tt })
kind_only (a ∷ b ∷ c ∷ []) k e = absurd cc
kind_only (a ∷ b ∷ c ∷ d ∷ []) k e = absurd cc
kind_only (a ∷ b ∷ c ∷ d ∷ f ∷ []) k e =
    let p = cond_some ((is_hex a && is_hex b && is_hex c && is_hex d && is_hex f)
    && nat_lt (value_of a b c d f) 0x40000) (Drives (set_of (value_of a b c d f))) k e in
    subst KindFits p.1 (record { named = tt; lines = omega arith })
kind_only (a ∷ b ∷ c ∷ d ∷ f ∷ g ∷ rest) k e = absurd cc

some_is : (x y : Row) → (let o : Option Row = Some x in o) ≡ Some y → x ≡ y
some_is x y e = cc

row_only : (line : List ℕ) (row : Row) → row_at line ≡ Some row → IsTraceRow row
unfolding row_at
row_only line row e =
    let n = bind_some (number_at line) _ row e in
    let t = bind_some (below (n.0).0) _ row n.2 in
    let a = bind_some (after (codes " ") (n.0).1) _ row t.2 in
    let d = bind_some (digit_at a.0) _ row a.2 in
    let b = bind_some (after (codes " ") (d.0).1) _ row d.2 in
    let k = bind_some (kind_at b.0) _ row b.2 in
    let fits = kind_only b.0 k.0 k.1 in
    let device = (digit_only a.0 (d.0).0 (d.0).1 d.1).0 in
    let time = (below_is (n.0).0 t.0 t.1).1 in
    subst IsTraceRow (some_is (record { time = t.0; dev = (d.0).0; kind = k.0 }) row k.2)
    (record { named = record { device = device; kind = fits.named }; lines = fits.lines; time = time })

end_only : (line : List ℕ) (t : ℕ) → end_at line ≡ Some t → t < 2 ^ 63
unfolding end_at
end_only line t e =
    let a = bind_some (after (codes "end ") line) _ t e in
    let n = bind_some (number_at a.0) _ t a.2 in
    let w = bind_some (is_whole (n.0).1) _ t n.2 in
    (below_is (n.0).0 t w.2).1

-- ---- what a line told, and where the text stands

abbrev StageFits : Stage → Type 0
StageFits stages.Start = Unit {0}
StageFits stages.Rows = Unit {0}
StageFits (stages.Ended t) = t < 2 ^ 63
StageFits (stages.History t) = t < 2 ^ 63

abbrev StateFits : State → Type 0
StateFits (states.Bad at) = Unit {0}
StateFits (states.Open stage count) = StageFits stage

abbrev ToldFits : Told → Type 0
ToldFits (tolds.RowRead row) = IsTraceRow row
ToldFits tolds.Quiet = Unit {0}
ToldFits (tolds.Bad at) = Unit {0}

record StepFits (s : State × Told) : Type 0 where
  state : StateFits s.0
  told : ToldFits s.1

kept_step : (count : ℕ) (stage : Stage) (q : Bool) → StageFits stage
    → StepFits (moved count (cond q (Some (stage, None)) None))
kept_step count stage true h = record { state = h; told = tt }
kept_step count stage false h = record { state = tt; told = tt }

row_step : (count : ℕ) (row : Option Row) (end : Option ℕ) → ((r : Row) → row ≡ Some r → IsTraceRow r)
    → ((t : ℕ) → end ≡ Some t → t < 2 ^ 63) → StepFits (moved count (row_or_end row end))
row_step count (Some r) end rows ends = record { state = tt; told = rows r refl }
row_step count None (Some t) rows ends = record { state = ends t refl; told = tt }
row_step count None None rows ends = record { state = tt; told = tt }

step_fits : (s : State) (line : List ℕ) → StateFits s → StepFits (stepped s line)
step_fits (states.Bad at) line h = record { state = tt; told = tt }
step_fits (states.Open stages.Start count) line h = kept_step (count + 1) stages.Rows (is_first line) tt
step_fits (states.Open stages.Rows count) line h =
    row_step (count + 1) (row_at line) (end_at line) (row_only line) (end_only line)
step_fits (states.Open (stages.Ended t) count) line h = kept_step (count + 1) (stages.History t) (is_history line) h
step_fits (states.Open (stages.History t) count) line h = record { state = h; told = tt }

state_fits : (lines : List (List ℕ)) → StateFits (state_of lines)
state_fits [] = tt
state_fits (line ∷ lines) = (step_fits (state_of lines) line (state_fits lines)).state

quiet_fits : (s : State) → ToldFits (quiet s)
quiet_fits (states.Bad at) = tt
quiet_fits (states.Open stage count) = tt

told_fits : (c : Cut) (b : ℕ) → ToldFits (told_next c b)
told_fits c b = go (b == 10) where
  go : (q : Bool) → ToldFits (cond q (stepped (state_of c.lines) c.rest).1 (quiet (state_of c.lines)))
  go true = (step_fits (state_of c.lines) c.rest (state_fits c.lines)).told
  go false = quiet_fits (state_of c.lines)

next_fits : (told : Told) (rows : List Row) → ToldFits told → AllByRecursion IsTraceRow rows
    → AllByRecursion IsTraceRow (rows_next told rows)
next_fits (tolds.RowRead row) rows h all = (h, all)
next_fits tolds.Quiet rows h all = all
next_fits (tolds.Bad at) rows h all = all

rows_fit : (bytes : List ℕ) → AllByRecursion IsTraceRow (rows_of bytes)
rows_fit [] = tt
rows_fit (b ∷ bytes) = next_fits (told_at bytes b) (rows_of bytes) (told_fits (cut_of bytes) b) (rows_fit bytes)

end_fits : (s : State) (rest : List ℕ) (end : ℕ) → StateFits s → end_told s rest ≡ Ok end → end < 2 ^ 63
end_fits (states.Bad at) rest end h e = absurd cc
end_fits (states.Open stages.Start count) rest end h e = absurd cc
end_fits (states.Open stages.Rows count) rest end h e = absurd cc
end_fits (states.Open (stages.History t) count) rest end h e = let same : t ≡ end = cc in omega arith
end_fits (states.Open (stages.Ended t) count) [] end h e = let same : t ≡ end = cc in omega arith
end_fits (states.Open (stages.Ended t) count) (b ∷ rest) end h e = absurd cc

-- ---- whole texts

record Says (read : List Row) (answer : Result ℕ ℕ) (rows : List Row) (end : ℕ) : Type 0 where
  all : read ≡ rows
  last : answer ≡ Ok end

abbrev pair_of : Result (List Row × ℕ) ℕ → List Row × ℕ
pair_of (Ok pair) = pair
pair_of (Err line) = ([], 0)

with_only : (read : List Row) (answer : Result ℕ ℕ) (rows : List Row) (end : ℕ) → with_rows read answer ≡ Ok (rows, end)
    → Says read answer rows end
with_only read (Ok t) rows end e = record { all = λ i. (pair_of (e i)).0; last = λ i. Ok (pair_of (e i)).1 }
with_only read (Err line) rows end e = absurd cc

abbrev read_whole : List ℕ → Result (List Row × ℕ) ℕ
read_whole newest = with_rows (reverse (rows_of newest)) (end_of newest)

not_long : (q : Bool) (whole : Result (List Row × ℕ) ℕ) (rows : List Row) (end : ℕ)
    → cond q (Err 0) whole ≡ Ok (rows, end) → whole ≡ Ok (rows, end)
not_long true whole rows end e = absurd cc
not_long false whole rows end e = e

pub trace_only : (bytes : List ℕ) (rows : List Row) (end : ℕ) → trace_of bytes ≡ Ok (rows, end)
    → AllByRecursion IsTraceRow rows × (end < 2 ^ 63)
trace_only bytes rows end e =
    let newest : List ℕ = reverse bytes in
    let whole : read_whole (reverse bytes) ≡ Ok (rows, end) = not_long
    (nat_lt TRACE_LIMIT (length bytes)) (read_whole (reverse bytes)) rows end e in
    let says = with_only (reverse (rows_of newest)) (end_of newest) rows end whole in
    let all : AllByRecursion IsTraceRow (reverse (rows_of newest)) = all_reverse IsTraceRow (rows_of newest)
    (rows_fit newest) in (
      subst (AllByRecursion IsTraceRow) says.all all,
      end_fits (state_of (cut_of newest).lines) (cut_of newest).rest end (state_fits (cut_of newest).lines) says.last,
    )

named_rows : (rows : List Row) → AllByRecursion IsTraceRow rows → AllByRecursion IsRow rows
named_rows [] h = tt
named_rows (row ∷ rows) h = (h.0.named, named_rows rows h.1)

-- the rows that were kept
pub kept_named : (rows : List Row) (bytes : List ℕ) → reverse rows ≡ rows_of bytes → AllByRecursion IsRow rows
kept_named rows bytes is =
    let all : AllByRecursion IsTraceRow (reverse rows) = subst (AllByRecursion IsTraceRow) (sym is) (rows_fit bytes) in
    named_rows rows
    (subst (AllByRecursion IsTraceRow) (reverse-reverse rows) (all_reverse IsTraceRow (reverse rows) all))

pub rows_named : (read : Result Trace TraceBad) (bytes : List ℕ) → Answers read (trace_of bytes)
    → IfOk read (λ t. AllByRecursion IsRow t.rows)
rows_named (Ok t) bytes e = named_rows t.rows (trace_only bytes t.rows t.end e).0
rows_named (Err bad) bytes e = tt
