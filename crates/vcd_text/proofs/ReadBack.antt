-- A dump that was written is read again.
use Rattle.std.proofs.Common.{◌≡◌, ℕ, ◌+◌, ◌^◌, ◌<◌, ◌≤◌, Bool, true, false, ◌&&◌, List, [], ◌∷◌, ◌++◌, reverse, Some}
use Rattle.std.proofs.Common.{None, Option, Ok, refl, sym, ap, subst, ◌∙◌, arith, append_assoc, append-nil, inl, inr}
use Rattle.std.specs.Prelude.{◌⊎◌, nat_lt, nat_le, decimal, if◌then◌else◌}
use Rattle.std.specs.List.{list_all}
use Rattle.std.proofs.lemmas.Bool.{cases_lt, lt-ltb, le-ltb, and_parts}
use Rattle.std.proofs.lemmas.Bool.Decides.{nat_tests}
use Rattle.std.proofs.lemmas.List.{reverse-append, reverse-reverse}
use Rattle.bus_trace.specs.LineSet.{LineSet, set_of, number_of}
use Rattle.bus_trace.specs.Trace.{last_time}
use Rattle.bus_trace.specs.declared.rows.Row.{Row}
use Rattle.bus_trace.specs.declared.rows.Kind.{Kind}
use Rattle.bus_trace.specs.declared.rows.Kind.TheVariants.{Drives}
use Rattle.bus_trace.proofs.Sets.{number_of-lt, set_back}
use Rattle.bus_trace.proofs.Devices.{below_8}
use Rattle.vcd_text.specs.declared.awaits.Awaits.{Awaits}
use Rattle.vcd_text.specs.declared.awaits.Awaits.TheVariants.{Change, Code}
use Rattle.vcd_text.specs.declared.dump.Dump.{Dump}
use Rattle.vcd_text.specs.declared.reader.VcdReader.{VcdReader}
use Rattle.vcd_text.specs.DumpText.{head_text, bits_text, value_text, time_text, later, change_text, time_after}
use Rattle.vcd_text.specs.DumpText.{rows_text, time_written, dump_text}
use Rattle.vcd_text.specs.Tokens.{is_space, is_printable, lines_of, given}
use Rattle.vcd_text.specs.Codes.{device_of}
use Rattle.vcd_text.specs.Steps.{step, going, timed, valued, with_change}
use Rattle.vcd_text.specs.Reading.{no_bytes, stepped, token_ended, line_after, spaced, taken, read_of, vcd_of}
use Rattle.vcd_text.specs.Readable.{IsChange, AreChanges}
use Rattle.vcd_text.proofs.Pieces.{taken_append, byte_inner, byte_space}
use Rattle.vcd_text.proofs.BackTokens.{decimal_again, decimal_printable, lines_again, bits_states, bits_printable}

-- ---- a token and the byte after it

no_space : (b : ℕ) → is_printable b ≡ true → is_space b ≡ false
no_space b h = grind (arith, nat_tests)

token_read : (token : List ℕ) (r : VcdReader) → r.bad ≡ None → list_all is_printable token ≡ true
    → taken r token ≡ record r { word = r.word ++ token }
token_read [] r fine all = ap (λ (word : List ℕ). record r { word = word }) (sym (append-nil r.word))
token_read (b ∷ token) r fine all =
    let parts = and_parts (is_printable b) (list_all is_printable token) all in
    ap (λ (s : VcdReader). taken s token) (byte_inner r b fine (no_space b parts.0))
    ∙ token_read token (record r { word = r.word ++ b ∷ [] }) fine parts.1
    ∙ ap (λ (word : List ℕ). record r { word = word }) (append_assoc r.word (b ∷ []) token)

-- the reader between two tokens
abbrev between : Dump → ℕ → VcdReader
between dump line = record { dump = dump; bad = None; word = []; line = line }

token_whole : (dump next : Dump) (line b x : ℕ) (token : List ℕ)
    → list_all is_printable (b ∷ token) ≡ true → is_space x ≡ true → step dump (b ∷ token) ≡ Some next
    → taken (between dump line) ((b ∷ token) ++ x ∷ []) ≡ between next (line_after line x)
token_whole dump next line b x token all space made =
    let word : VcdReader = record { dump = dump; bad = None; word = b ∷ token; line = line } in
    let ended : token_ended word (b ∷ token) ≡ record word { dump = next } =
    ap (λ (q : Bool). stepped word (if q then step dump (b ∷ token) else None)) all ∙ ap (stepped word) made in
    taken_append (b ∷ token) (x ∷ []) (between dump line)
    ∙ ap (λ (s : VcdReader). taken s (x ∷ [])) (token_read (b ∷ token) (between dump line) refl all)
    ∙ byte_space word x refl space ∙ ap (λ (s : VcdReader). spaced s x) ended

-- ---- what a dump is after its head

abbrev letters : List (ℕ × List ℕ)
letters = (0, 97 ∷ []) ∷ (1, 98 ∷ []) ∷ (2, 99 ∷ []) ∷ (3, 100 ∷ []) ∷ (4, 101 ∷ []) ∷ (5, 102 ∷ []) ∷ (6, 103 ∷ [])
    ∷ (7, 104 ∷ []) ∷ []

abbrev all_codes : List (List ℕ)
all_codes = (97 ∷ []) ∷ (98 ∷ []) ∷ (99 ∷ []) ∷ (100 ∷ []) ∷ (101 ∷ []) ∷ (102 ∷ []) ∷ (103 ∷ []) ∷ (104 ∷ []) ∷ []

-- these rows have been read, the newest first, and this time
abbrev read_so_far : List Row → ℕ → Awaits → Dump
read_so_far rows time awaits = record {
  awaits = awaits;
  has_timescale = true;
  code = 104 ∷ [];
  codes = all_codes;
  devices = letters;
  time = time;
  rows = rows;
}

-- a text leads from one to the other
abbrev Leads : List ℕ → List Row → ℕ → List Row → ℕ → Type 0
Leads text rows time more later_time = (line : ℕ) → (after : ℕ)
    × (taken (between (read_so_far rows time Change) line) text ≡ between (read_so_far more later_time Change) after)

leads_on : (a b : List ℕ) (rows more all : List Row) (t u v : ℕ) → Leads a rows t more u → Leads b more u all v
    → Leads (a ++ b) rows t all v
leads_on a b rows more all t u v first second line =
    let one = first line in
    let two = second one.0 in (
      two.0,
      taken_append a b (between (read_so_far rows t Change) line) ∙ ap (λ (s : VcdReader). taken s b) one.1 ∙ two.1,
    )

head_read : taken no_bytes head_text ≡ between (read_so_far [] 0 Change) 24
head_read = refl

-- ---- a time

time_made : (rows : List Row) (last time : ℕ) → last ≤ time → time < 2 ^ 63
    → step (read_so_far rows last Change) (35 ∷ decimal time) ≡ Some (read_so_far rows time Change)
time_made rows last time order small =
    ap (timed (read_so_far rows last Change)) (decimal_again time (omega (arith, small)))
    ∙ ap (λ (q : Bool). if q then Some (read_so_far rows time Change) else None) (tests time last order small)
  where
    tests : (time last : ℕ) → last ≤ time → time < 2 ^ 63 → (nat_lt time (2 ^ 63) && nat_le last time) ≡ true
    tests time last order small = grind (arith, nat_tests)

time_read : (rows : List Row) (last time : ℕ) → last ≤ time → time < 2 ^ 63
    → Leads (time_text last time) rows last rows time
time_read rows last time order small line =
    elim (cases_lt last time) [
      | inl lt ↦
          let printable : list_all is_printable (35 ∷ decimal time) ≡ true = decimal_printable time
          (omega (arith, small)) in
          let text : time_text last time ≡ (35 ∷ decimal time) ++ 10 ∷ [] = ap
          (λ (q : Bool). if q then 35 ∷ decimal time ++ 10 ∷ [] else []) (lt-ltb last time lt) in (
            line_after line 10,
            ap (taken (between (read_so_far rows last Change) line)) text
                ∙ token_whole (read_so_far rows last Change) (read_so_far rows time Change) line 35 10
                (decimal time) printable refl (time_made rows last time order small),
          )
      | inr le ↦
          let text : time_text last time ≡ [] = ap
          (λ (q : Bool). if q then 35 ∷ decimal time ++ 10 ∷ [] else []) (le-ltb last time le) in
          let same : last ≡ time = omega (arith, order, le) in (
            line,
            ap (taken (between (read_so_far rows last Change) line)) text
                ∙ ap (λ (t : ℕ). between (read_so_far rows t Change) line) same,
          )
    ]

-- ---- a value

value_made : (rows : List Row) (time n : ℕ) → n < 2 ^ 18
    → step (read_so_far rows time Change) (98 ∷ bits_text n) ≡ Some (read_so_far rows time (Code (Some (set_of n))))
value_made rows time n small =
    ap (λ (q : Bool). going (read_so_far rows time Change) (given q (Code (lines_of (bits_text n))))) (bits_states n)
    ∙ ap (λ (o : Option LineSet). Some (read_so_far rows time (Code o))) (lines_again n small)

letter_printable : (dev : ℕ) → dev < 8 → list_all is_printable ((97 + dev) ∷ []) ≡ true
letter_printable =
    below_8 (λ dev. list_all is_printable ((97 + dev) ∷ []) ≡ true) refl refl refl refl refl refl refl refl

letter_of_device : (dev : ℕ) → dev < 8 → device_of letters ((97 + dev) ∷ []) ≡ Some dev
letter_of_device =
    below_8 (λ dev. device_of letters ((97 + dev) ∷ []) ≡ Some dev) refl refl refl refl refl refl refl refl

code_made : (rows : List Row) (time dev : ℕ) (lines : LineSet) → dev < 8
    → step (read_so_far rows time (Code (Some lines))) ((97 + dev) ∷ [])
    ≡ Some (read_so_far (with_change rows time dev lines) time Change)
code_made rows time dev lines small = ap (λ (o : Option ℕ). valued (read_so_far rows time (Code (Some lines))) o
    (Some lines) ((97 + dev) ∷ [])) (letter_of_device dev small)

value_read : (rows : List Row) (time dev n : ℕ) → dev < 8 → n < 2 ^ 18
    → Leads (value_text dev n) rows time (with_change rows time dev (set_of n)) time
value_read rows time dev n device small line = (
  line_after line 10,
  taken_append ((98 ∷ bits_text n) ++ 32 ∷ []) ((97 + dev) ∷ 10 ∷ []) (between (read_so_far rows time Change) line)
      ∙ ap (λ (s : VcdReader). taken s ((97 + dev) ∷ 10 ∷ []))
      (token_whole (read_so_far rows time Change) (read_so_far rows time (Code (Some (set_of n)))) line 98 32
      (bits_text n) (bits_printable n) refl (value_made rows time n small))
      ∙ token_whole (read_so_far rows time (Code (Some (set_of n))))
      (read_so_far (with_change rows time dev (set_of n)) time Change) line (97 + dev) 10 []
      (letter_printable dev device) refl (code_made rows time dev (set_of n) device),
)

-- ---- the rows

row_is : (row : Row) (lines : LineSet) → row.kind ≡ Drives lines
    → record { time = row.time; dev = row.dev; kind = Drives lines } ≡ row
row_is row lines is = ap (λ (kind : Kind). record { time = row.time; dev = row.dev; kind = kind }) (sym is)

changed_rows : (rows : List Row) (row : Row)
    → (h : IsChange rows row) → with_change rows row.time row.dev (set_of (number_of h.lines)) ≡ row ∷ rows
changed_rows rows row h = ap (with_change rows row.time row.dev) (set_back h.lines h.fits)
    ∙ ap (λ (q : Bool). if q then rows else record { time = row.time; dev = row.dev; kind = Drives h.lines } ∷ rows)
    h.differs ∙ ap (λ (x : Row). x ∷ rows) (row_is row h.lines h.kind)

row_read : (rows : List Row) (row : Row) → IsChange rows row → row.time < 2 ^ 63
    → Leads (change_text (last_time rows) row.time row.dev row.kind) rows (last_time rows) (row ∷ rows) row.time
row_read rows row h small =
    let text : change_text (last_time rows) row.time row.dev (Drives h.lines)
    ≡ change_text (last_time rows) row.time row.dev row.kind = ap
    (change_text (last_time rows) row.time row.dev) (sym h.kind) in
    let lead = leads_on (time_text (last_time rows) row.time) (value_text row.dev (number_of h.lines)) rows rows
    (with_change rows row.time row.dev (set_of (number_of h.lines)))
    (last_time rows) row.time row.time (time_read rows (last_time rows) row.time h.time small)
    (value_read rows row.time row.dev (number_of h.lines) h.device (number_of-lt h.lines h.fits)) in
    let whole : Leads (change_text (last_time rows) row.time row.dev row.kind) rows (last_time rows)
    (with_change rows row.time row.dev (set_of (number_of h.lines))) row.time = subst (λ (t : List ℕ). Leads t rows
    (last_time rows) (with_change rows row.time row.dev (set_of (number_of h.lines))) row.time) text lead in
    subst (λ (more : List Row). Leads (change_text (last_time rows) row.time row.dev row.kind) rows
    (last_time rows) more row.time) (changed_rows rows row h) whole

-- the last time written is that of the last row
time_is : (rows : List Row) (row : Row) → IsChange rows row → time_after (last_time rows) row.time row.kind ≡ row.time
time_is rows row h = ap (time_after (last_time rows) row.time) h.kind ∙ by (cases_lt (last_time rows) row.time) where
  by : (last_time rows < row.time) ⊎ (row.time ≤ last_time rows) → later (last_time rows) row.time ≡ row.time
  by (inl lt) = ap (λ (q : Bool). if q then row.time else last_time rows) (lt-ltb (last_time rows) row.time lt)
  by (inr le) = ap (λ (q : Bool). if q then row.time else last_time rows) (le-ltb (last_time rows) row.time le)
      ∙ (let order = h.time in omega (arith, le, order))

-- these rows, the oldest first, come after those, the newest first
abbrev Follow : List Row → List Row → Type 0
Follow before [] = Unit {0}
Follow before (row ∷ rows) = IsChange before row × Follow (row ∷ before) rows

abbrev onto : List Row → List Row → List Row
onto before [] = before
onto before (row ∷ rows) = onto (row ∷ before) rows

later_times : (rows before : List Row) → Follow before rows → last_time before ≤ last_time (onto before rows)
later_times [] before all = omega arith
later_times (row ∷ rows) before all =
    let more = later_times rows (row ∷ before) all.1 in
    let order = all.0.time in
    omega (arith, more, order)

rows_read : (rows before : List Row) → Follow before rows → last_time (onto before rows) < 2 ^ 63
    → Leads (rows_text (last_time before) rows) before (last_time before) (onto before rows)
    (last_time (onto before rows))
rows_read [] before all small = λ line. (line, refl)
rows_read (row ∷ rows) before all small =
    let order = later_times rows (row ∷ before) all.1 in
    let more : Leads (rows_text row.time rows) (row ∷ before) row.time (onto (row ∷ before) rows)
    (last_time (onto (row ∷ before) rows)) = rows_read rows (row ∷ before) all.1 small in
    let then_text : rows_text row.time rows ≡ rows_text (time_after (last_time before) row.time row.kind) rows = ap
    (λ (t : ℕ). rows_text t rows) (sym (time_is before row all.0)) in
    let rest : Leads (rows_text (time_after (last_time before) row.time row.kind) rows) (row ∷ before) row.time
    (onto (row ∷ before) rows) (last_time (onto (row ∷ before) rows)) = subst (λ (t : List ℕ). Leads t
    (row ∷ before) row.time (onto (row ∷ before) rows) (last_time (onto (row ∷ before) rows))) then_text more in
    leads_on (change_text (last_time before) row.time row.dev row.kind)
    (rows_text (time_after (last_time before) row.time row.kind) rows) before (row ∷ before)
    (onto (row ∷ before) rows) (last_time before) row.time (last_time (onto (row ∷ before) rows))
    (row_read before row all.0 (omega (arith, order, small))) rest

times_written : (rows before : List Row) → Follow before rows
    → time_written (last_time before) rows ≡ last_time (onto before rows)
times_written [] before all = refl
times_written (row ∷ rows) before all =
    ap (λ (t : ℕ). time_written t rows) (time_is before row all.0) ∙ times_written rows (row ∷ before) all.1

-- ---- the same, the newest row first

onto_reverse : (rows before : List Row) → onto before rows ≡ reverse rows ++ before
onto_reverse [] before = refl
onto_reverse (row ∷ rows) before =
    onto_reverse rows (row ∷ before) ∙ sym (append_assoc (reverse rows) (row ∷ []) before)
    ∙ ap (λ (xs : List Row). xs ++ before) (sym (reverse-append (row ∷ []) rows))

follow_split : (rows before : List Row) → AreChanges (onto before rows) → AreChanges before × Follow before rows
follow_split [] before all = (all, tt)
follow_split (row ∷ rows) before all =
    let more = follow_split rows (row ∷ before) all in
    (more.0.0, (more.0.1, more.1))

pub dump_back : (rows : List Row) (end : ℕ) → AreChanges (reverse rows) → last_time (reverse rows) ≤ end → end < 2 ^ 63
    → vcd_of (dump_text rows end) ≡ Ok (rows, end)
dump_back rows end all order small =
    let is : reverse rows ≡ onto [] rows = sym (append-nil (reverse rows)) ∙ sym (onto_reverse rows []) in
    let follow = (follow_split rows [] (subst AreChanges is all)).1 in
    let last : last_time (onto [] rows) ≤ end = subst (λ (xs : List Row). last_time xs ≤ end) is order in
    let body = rows_read rows [] follow (omega (arith, last, small)) in
    let tail = time_read (onto [] rows) (last_time (onto [] rows)) end last small in
    let ended : Leads (time_text (time_written 0 rows) end) (onto [] rows) (last_time (onto [] rows)) (onto [] rows)
    end = subst (λ (t : ℕ). Leads (time_text t end) (onto [] rows) (last_time (onto [] rows)) (onto [] rows) end)
    (sym (times_written rows [] follow)) tail in
    let lead = leads_on (rows_text 0 rows) (time_text (time_written 0 rows) end) []
    (onto [] rows) (onto [] rows) 0 (last_time (onto [] rows)) end body ended 24 in
    let read : taken no_bytes (dump_text rows end) ≡ between (read_so_far (onto [] rows) end Change) lead.0 =
    taken_append head_text (rows_text 0 rows ++ time_text (time_written 0 rows) end) no_bytes
    ∙ ap (λ (s : VcdReader). taken s (rows_text 0 rows ++ time_text (time_written 0 rows) end)) head_read ∙ lead.1 in
    ap read_of read ∙ ap (λ (xs : List Row). Ok (xs, end)) (ap reverse (sym is) ∙ reverse-reverse rows)
