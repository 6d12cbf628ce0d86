-- The text of a trace is read again.
use Rattle.std.proofs.Common.{◌≡◌, ℕ, ◌+◌, ◌^◌, ◌<◌, ◌≤◌, Bool, true, false, not, ◌&&◌, List, [], ◌∷◌, ◌++◌, length}
use Rattle.std.proofs.Common.{reverse, Option, Some, None, Ok, refl, sym, ap, subst, ◌∙◌, append_assoc, flat_map}
use Rattle.std.specs.Prelude.{◌==◌, codes, decimal}
use Rattle.std.specs.List.{list_all, AllByRecursion}
use Rattle.std.proofs.lemmas.Bool.{le-ltb}
use Rattle.std.proofs.lemmas.List.{append-nil, reverse-append, reverse-reverse}
use Rattle.trace_text.specs.declared.limit.TheConstants.{LIMIT as TRACE_LIMIT}
use Rattle.bus_trace.specs.declared.Row.{Row}
use Rattle.run_record.specs.Value.{RunValue}
use Rattle.trace_text.specs.declared.stages.Stage.{Stage}
use Rattle.trace_text.specs.declared.stages.Stage.TheVariants as stages
use Rattle.trace_text.specs.declared.stages.State.TheVariants as states
use Rattle.trace_text.specs.RowText.{row_text, trace_text}
use Rattle.trace_text.specs.EventText.{event_text}
use Rattle.trace_text.specs.ReplyText.{replies_text}
use Rattle.trace_text.specs.BlockText.{disks_text}
use Rattle.trace_text.specs.TapeText.{tapes_text}
use Rattle.trace_text.specs.ReportText.{report_text}
use Rattle.trace_text.specs.Readable.{IsTraceRow}
use Rattle.trace_text.specs.Lines.{stage_after, row_told, moved, stepped, state_of}
use Rattle.trace_text.specs.Pieces.{is_inner}
use Rattle.trace_text.specs.Bytes.{Cut, cut_next, cut_of, told_at, quiet, end_told, end_of, rows_next, rows_of}
use Rattle.trace_text.specs.Whole.{with_rows, trace_of}
use Rattle.trace_text.proofs.RowAgain.{row_line, row_text-line, row_again, row_inner, end_line, end_again, end_no_row}
use Rattle.trace_text.proofs.RowAgain.{end_inner}

-- these, newest first, and then the others one by one
abbrev onto : {A : Type 0} → List A → List A → List A
onto xs [] = xs
onto xs (y ∷ ys) = onto (y ∷ xs) ys

onto_reverse : {A : Type 0} (xs ys : List A) → onto xs ys ≡ reverse ys ++ xs
onto_reverse xs [] = refl
onto_reverse xs (y ∷ ys) = onto_reverse (y ∷ xs) ys
    ∙ (sym (append_assoc (reverse ys) (y ∷ []) xs) ∙ ap (λ l. l ++ xs) (sym (reverse-append (y ∷ []) ys)))

onto_none : {A : Type 0} (ys : List A) → onto [] ys ≡ reverse ys
onto_none ys = onto_reverse [] ys ∙ append-nil (reverse ys)

onto_append : {A : Type 0} (xs ys zs : List A) → onto xs (ys ++ zs) ≡ onto (onto xs ys) zs
onto_append xs [] zs = refl
onto_append xs (y ∷ ys) zs = onto_append (y ∷ xs) ys zs

-- After these bytes the text stands here, with these rows told and this part of a line.
record IsAt (stage : Stage) (told : List Row) (part : List ℕ) (bytes : List ℕ) : Type 0 where
  count : ℕ
  state : state_of (cut_of bytes).lines ≡ states.Open stage count
  rest : (cut_of bytes).rest ≡ part
  rows : rows_of bytes ≡ told

-- ---- within a line, and at its end

byte_on : (stage : Stage) (told : List Row) (part bytes : List ℕ) (b : ℕ) → (b == 10) ≡ false
    → IsAt stage told part bytes → IsAt stage told (part ++ b ∷ []) (b ∷ bytes)
byte_on stage told part bytes b e h =
    let cut : cut_next (cut_of bytes) b
    ≡ record { lines = (cut_of bytes).lines; rest = (cut_of bytes).rest ++ b ∷ [] } = rw e refl in
    let tells : told_at bytes b ≡ quiet (state_of (cut_of bytes).lines) = rw e refl in
    record {
      count = h.count;
      state = ap (λ (c : Cut). state_of c.lines) cut ∙ h.state;
      rest = ap (λ (c : Cut). c.rest) cut ∙ ap (λ (l : List ℕ). l ++ b ∷ []) h.rest;
      rows =
          (λ i. rows_next (tells i) (rows_of bytes)) ∙ ((λ i. rows_next (quiet (h.state i)) (rows_of bytes)) ∙ h.rows);
    }

line_on : (stage : Stage) (told : List Row) (line part bytes : List ℕ) → list_all is_inner line ≡ true
    → IsAt stage told part bytes → IsAt stage told (part ++ line) (onto bytes line)
line_on stage told [] part bytes inner h = subst (λ (l : List ℕ). IsAt stage told l bytes) (sym (append-nil part)) h
line_on stage told (b ∷ line) part bytes inner h =
    step (b == 10) refl inner (line_on stage told line (part ++ b ∷ []) (b ∷ bytes))
  where
    step : (q : Bool) → (b == 10) ≡ q → (not q && list_all is_inner line) ≡ true
        → (list_all is_inner line ≡ true → IsAt stage told (part ++ b ∷ []) (b ∷ bytes)
        → IsAt stage told (part ++ b ∷ [] ++ line) (onto (b ∷ bytes) line))
        → IsAt stage told (part ++ b ∷ line) (onto (b ∷ bytes) line)
    step true e more ih = absurd cc
    step false e more ih = subst (λ (l : List ℕ). IsAt stage told l (onto (b ∷ bytes) line))
        (append_assoc part (b ∷ []) line) (ih more (byte_on stage told part bytes b e h))

feed_on : (stage next : Stage) (row : Option Row) (told : List Row) (line bytes : List ℕ)
    → stage_after stage line ≡ Some (next, row) → IsAt stage told line bytes
    → IsAt next (rows_next (row_told row) told) [] (10 ∷ bytes)
feed_on stage next row told line bytes e h =
    let step : stepped (state_of (cut_of bytes).lines) (cut_of bytes).rest
    ≡ (states.Open next (h.count + 1), row_told row) = (λ i. stepped (h.state i) (h.rest i))
    ∙ ap (moved (h.count + 1)) e in
    record {
      count = h.count + 1;
      state = λ i. (step i).0;
      rest = refl;
      rows = λ i. rows_next (step i).1 (h.rows i);
    }

-- a whole line
ended_on : (stage next : Stage) (row : Option Row) (told : List Row) (line bytes : List ℕ)
    → list_all is_inner line ≡ true → stage_after stage line ≡ Some (next, row) → IsAt stage told [] bytes
    → IsAt next (rows_next (row_told row) told) [] (onto bytes (line ++ 10 ∷ []))
ended_on stage next row told line bytes inner e h = subst
    (IsAt next (rows_next (row_told row) told) []) (sym (onto_append bytes line (10 ∷ [])))
    (feed_on stage next row told line (onto bytes line) e (line_on stage told line [] bytes inner h))

-- ---- the lines of a trace

start : IsAt stages.Start [] [] []
start = record { count = 0; state = refl; rest = refl; rows = refl }

row_on : (row : Row) (told : List Row) (bytes : List ℕ) → IsTraceRow row → IsAt stages.Rows told [] bytes
    → IsAt stages.Rows (row ∷ told) [] (onto bytes (row_text row))
row_on row told bytes fits h =
    let says : stage_after stages.Rows (row_line row) ≡ Some (stages.Rows, Some row) = rw (row_again row fits) refl in
    subst (λ (l : List ℕ). IsAt stages.Rows (row ∷ told) [] (onto bytes l)) (sym (row_text-line row))
    (ended_on stages.Rows stages.Rows (Some row) told (row_line row) bytes (row_inner row fits) says h)

rows_on : (rows told : List Row) (bytes : List ℕ) → AllByRecursion IsTraceRow rows → IsAt stages.Rows told [] bytes
    → IsAt stages.Rows (onto told rows) [] (onto bytes (flat_map row_text rows))
rows_on [] told bytes fit h = h
rows_on (row ∷ rows) told bytes fit h = subst (IsAt stages.Rows (onto (row ∷ told) rows) [])
    (sym (onto_append bytes (row_text row) (flat_map row_text rows)))
    (rows_on rows (row ∷ told) (onto bytes (row_text row)) fit.1 (row_on row told bytes fit.0 h))

end_on : (end : ℕ) (told : List Row) (bytes : List ℕ) → end < 2 ^ 63 → IsAt stages.Rows told [] bytes
    → IsAt (stages.Ended end) told [] (onto bytes (codes "end " ++ (decimal end ++ 10 ∷ [])))
end_on end told bytes lt h =
    let says : stage_after stages.Rows (end_line end) ≡ Some (stages.Ended end, None) = rw
    (end_no_row end, end_again end lt) refl in
    ended_on stages.Rows (stages.Ended end) None told (end_line end) bytes (end_inner end lt) says h

-- after the text of a trace
trace_on : (rows : List Row) (end : ℕ) → AllByRecursion IsTraceRow rows → end < 2 ^ 63
    → IsAt (stages.Ended end) (reverse rows) [] (onto [] (trace_text rows end))
trace_on rows end fit lt =
    let first : List ℕ = onto [] (codes "trace 1\n") in
    let at_first : IsAt stages.Rows [] [] (onto [] (codes "trace 1\n")) = ended_on stages.Start stages.Rows None []
    (codes "trace 1") [] refl refl start in
    let last : List ℕ = codes "end " ++ (decimal end ++ 10 ∷ []) in
    let at_rows : IsAt stages.Rows (onto [] rows) [] (onto first (flat_map row_text rows)) = rows_on
    rows [] first fit at_first in
    let at_end : IsAt (stages.Ended end) (onto [] rows) [] (onto (onto first (flat_map row_text rows)) last) = end_on
    end (onto [] rows) (onto first (flat_map row_text rows)) lt at_rows in
    let bytes : onto [] (trace_text rows end) ≡ onto (onto first (flat_map row_text rows)) last = onto_append first
    (flat_map row_text rows) last in
    subst (λ (l : List Row). IsAt (stages.Ended end) l [] (onto [] (trace_text rows end))) (onto_none rows)
    (subst (IsAt (stages.Ended end) (onto [] rows) []) (sym bytes) at_end)

-- ---- after `history` no byte changes what was said

record IsPast (end : ℕ) (told : List Row) (bytes : List ℕ) : Type 0 where
  count : ℕ
  state : state_of (cut_of bytes).lines ≡ states.Open (stages.History end) count
  rows : rows_of bytes ≡ told

past_step : (end : ℕ) (told : List Row) (bytes : List ℕ) (b : ℕ) → IsPast end told bytes → (q : Bool) → (b == 10) ≡ q
    → IsPast end told (b ∷ bytes)
past_step end told bytes b h true e =
    let cut : cut_next (cut_of bytes) b ≡ record { lines = (cut_of bytes).rest ∷ (cut_of bytes).lines; rest = [] } = rw
    e refl in
    let tells : told_at bytes b ≡ (stepped (state_of (cut_of bytes).lines) (cut_of bytes).rest).1 = rw e refl in
    record {
      count = h.count + 1;
      state = ap (λ (c : Cut). state_of c.lines) cut ∙ (λ i. (stepped (h.state i) (cut_of bytes).rest).0);
      rows = (λ i. rows_next (tells i) (rows_of bytes))
          ∙ ((λ i. rows_next (stepped (h.state i) (cut_of bytes).rest).1 (rows_of bytes)) ∙ h.rows);
    }
past_step end told bytes b h false e =
    let cut : cut_next (cut_of bytes) b
    ≡ record { lines = (cut_of bytes).lines; rest = (cut_of bytes).rest ++ b ∷ [] } = rw e refl in
    let tells : told_at bytes b ≡ quiet (state_of (cut_of bytes).lines) = rw e refl in
    record {
      count = h.count;
      state = ap (λ (c : Cut). state_of c.lines) cut ∙ h.state;
      rows =
          (λ i. rows_next (tells i) (rows_of bytes)) ∙ ((λ i. rows_next (quiet (h.state i)) (rows_of bytes)) ∙ h.rows);
    }

past_on : (end : ℕ) (told : List Row) (rest bytes : List ℕ) → IsPast end told bytes → IsPast end told (onto bytes rest)
past_on end told [] bytes h = h
past_on end told (b ∷ rest) bytes h = past_on end told rest (b ∷ bytes) (past_step end told bytes b h (b == 10) refl)

history_on : (end : ℕ) (told : List Row) (rest bytes : List ℕ) → IsAt (stages.Ended end) told [] bytes
    → IsPast end told (onto bytes (codes "history\n" ++ rest))
history_on end told rest bytes h =
    let at = ended_on (stages.Ended end) (stages.History end) None told (codes "history") bytes refl refl h in
    past_on end told rest (onto bytes (codes "history\n"))
    (record { count = at.count; state = at.state; rows = at.rows })

-- ---- whole texts

says_all : (rows : List Row) (end : ℕ) (text : List ℕ) → length text ≤ TRACE_LIMIT
    → rows_of (onto [] text) ≡ reverse rows → end_of (onto [] text) ≡ Ok end → trace_of text ≡ Ok (rows, end)
says_all rows end text few told ends =
    let newest : onto [] text ≡ reverse text = onto_none text in
    let all : reverse (rows_of (reverse text)) ≡ rows = ap (λ (l : List ℕ). reverse (rows_of l)) (sym newest)
    ∙ (ap reverse told ∙ reverse-reverse rows) in
    let last : end_of (reverse text) ≡ Ok end = ap end_of (sym newest) ∙ ends in
    rw (le-ltb TRACE_LIMIT (length text) few) (λ i. with_rows (all i) (last i))

pub trace_again : (rows : List Row) (end : ℕ) → AllByRecursion IsTraceRow rows → end < 2 ^ 63
    → length (trace_text rows end) ≤ TRACE_LIMIT → trace_of (trace_text rows end) ≡ Ok (rows, end)
trace_again rows end fit lt few =
    let at = trace_on rows end fit lt in
    says_all rows end (trace_text rows end) few at.rows (λ i. end_told (at.state i) (at.rest i))

pub followed_again : (rows : List Row) (end : ℕ) (rest : List ℕ) → AllByRecursion IsTraceRow rows
    → end < 2 ^ 63 → length (trace_text rows end ++ (codes "history\n" ++ rest)) ≤ TRACE_LIMIT
    → trace_of (trace_text rows end ++ (codes "history\n" ++ rest)) ≡ Ok (rows, end)
followed_again rows end rest fit lt few =
    let past = subst (IsPast end (reverse rows))
    (sym (onto_append [] (trace_text rows end) (codes "history\n" ++ rest)))
    (history_on end (reverse rows) rest (onto [] (trace_text rows end)) (trace_on rows end fit lt)) in
    let text : List ℕ = trace_text rows end ++ (codes "history\n" ++ rest) in
    says_all rows end (trace_text rows end ++ (codes "history\n" ++ rest)) few past.rows
    (λ i. end_told (past.state i) (cut_of (onto [] text)).rest)

pub report_again : (units tapes : List (ℕ × ℕ)) (run : RunValue) → AllByRecursion IsTraceRow run.rows
    → run.end < 2 ^ 63 → length (report_text units tapes run) ≤ TRACE_LIMIT
    → trace_of (report_text units tapes run) ≡ Ok (run.rows, run.end)
report_again units tapes run fit lt few =
    followed_again run.rows run.end (flat_map event_text run.history ++ (codes "replies\n"
    ++ (replies_text 1 run.replies ++ (codes "blocks\n" ++ (disks_text units run.disks
    ++ (tapes_text tapes run.tapes ++ codes "done\n")))))) fit lt few
