-- A view and the rows that it was made from.
use Rattle.std.proofs.Common.{◌≤◌, refl, ℕ, zero, suc, ◌+◌, ◌-◌, ◌≡◌, ◌<◌, Bool, true, false, List, [], ◌∷◌, ◌∙◌, sym}
use Rattle.std.proofs.Common.{subst, arith, get_or, length, length-set}
use Rattle.std.specs.Prelude.{slice_set, slice_index, nat_lt, ◌&&◌, if◌then◌else◌}
use Rattle.std.proofs.lemmas.Bool.{and_parts}
use Rattle.std.proofs.lemmas.Bool.Decides.{nat_tests}
use Rattle.bus_trace.proofs.Devices.{below_8}
use Rattle.std.proofs.lemmas.Grind.{common_steps, elements}
use Rattle.bus_trace.specs.LineSet.{LineSet, union, line_of, data_of, same as same_line}
use Rattle.bus_trace.specs.View.{View, union_below, driven_at, time_of_line, time_by_number, AreBefore, AreTimesBefore}
use Rattle.bus_trace.specs.declared.line_times.LineTimes.{LineTimes}
use Rattle.bus_trace.specs.declared.rows.Row.{Row}
use Rattle.bus_trace.specs.Changes.{same_hold, same_phase, same_stage}
use Rattle.bus_trace.specs.Trace.{driven_after, IsViewOf, drives, bus, newer, newer_line, since, times_after}
use Rattle.bus_trace.specs.Trace.{times_after_transfer}
use Rattle.bus_trace.proofs.Ages.{newer_along, newer_lt, newer_le, if_le, since_line_of, line_bsy, line_sel, line_cd}
use Rattle.bus_trace.proofs.Ages.{line_io, line_msg, line_req, line_ack, line_atn, line_rst}

-- what all devices drive
abbrev pub Driven : List Row → List LineSet → Type 0
Driven rows driven = (dev : ℕ) → dev < 8 → driven_at driven dev ≡ drives rows dev

Driven-step : (row : Row) (rows : List Row) (driven : List LineSet) → Driven rows driven → length driven ≡ 8
    → row.dev < 8 → (lines : LineSet) → lines ≡ driven_after row.kind (driven_at driven row.dev)
    → Driven (row ∷ rows) (slice_set driven row.dev lines)
Driven-step row rows driven d e h lines l dev lt = grind (arith, common_steps, elements, d dev)

-- what a device drives, read from the list of what all drove, in which the device of a row has its lines after it
read_driven : (xs : List LineSet) (d : ℕ) (x : LineSet) → d < length xs → get_or xs d x ≡ driven_at xs d
read_driven [] d x lt = absurd (omega arith)
read_driven (y ∷ xs) zero x lt = refl
read_driven (y ∷ xs) (suc d) x lt = read_driven xs d x (omega arith)

pub driven_with
    : (rows : List Row) (row : Row) (v : View) → IsViewOf rows v → (dev : ℕ) → dev < 8 → row.dev ≡ dev
    → (lines : LineSet) → lines ≡ driven_after row.kind (drives rows dev)
    → (d : ℕ) → d < 8 → (x : LineSet) → get_or (slice_set v.driven dev lines) d x ≡ drives (row ∷ rows) d
driven_with rows row v w dev lt at lines e d below x =
    let here : row.dev < 8 = omega arith in
    let was : drives rows dev ≡ driven_at v.driven row.dev = sym
    ((λ i. driven_at v.driven (at i)) ∙ w.drives_are dev lt) in
    let next : lines ≡ driven_after row.kind (driven_at v.driven row.dev) = e ∙ (λ i. driven_after row.kind (was i)) in
    let new = Driven-step row rows v.driven w.drives_are w.long here lines next in
    let all = subst (λ (k : ℕ). Driven (row ∷ rows) (slice_set v.driven k lines)) at new in
    let long : length (slice_set v.driven dev lines) ≡ 8 = length-set _ _ _ ∙ w.long in
    read_driven (slice_set v.driven dev lines) d x (omega arith) ∙ all d below

-- the union of all is the bus
pub first-below : (f : ℕ → LineSet) (a : LineSet) → a ≡ f 0 → a ≡ union_below f 1
unfolding union_below
first-below f a e = e

pub next-below : (f : ℕ → LineSet) (n : ℕ) (s a u : LineSet) → u ≡ union s a → s ≡ union_below f n → a ≡ f n
    → u ≡ union_below f (suc n)
unfolding union_below
next-below f n s a u e es ea = e ∙ (λ i. union (es i) (ea i))

-- one more row
pub IsViewOf-step : (row : Row) (rows : List Row) (v : View) → IsViewOf rows v → row.dev < 8
    → (lines : LineSet) → lines ≡ driven_after row.kind (driven_at v.driven row.dev)
    → (after : LineSet) → after ≡ bus (row ∷ rows) → (data_lines : List ℕ) → ((line : ℕ) → line < 9
    → slice_index data_lines line ≡ newer (line_of line) v.present after (slice_index v.data_lines line) row.time)
    → (data_changed : ℕ) → data_changed ≡ newer data_of v.present after v.data_changed row.time
    → (times : LineTimes) → times ≡ times_after v.times v.present after row.time → IsViewOf (row ∷ rows) (record {
      driven = slice_set v.driven row.dev lines;
      present = after;
      data_lines = data_lines;
      data_changed = data_changed;
      times = times;
      last = row.time;
    })
IsViewOf-step row rows v i h lines l after new data_lines a data_changed e times t =
    let step = Driven-step row rows v.driven i.drives_are i.long h lines l in
    record {
      long = length-set _ _ _ ∙ i.long;
      drives_are = step;
      bus_is = new;
      data_lines_are =
          λ line lt. a line lt ∙ newer_along (line_of line) _ _ _ _ _ _ _ i.bus_is new (i.data_lines_are line lt);
      data_is = e ∙ newer_along data_of _ _ _ _ _ _ _ i.bus_is new i.data_is;
      times_are = t ∙ (λ j. times_after (i.times_are j) (i.bus_is j) (new j) row.time);
      last_is = refl;
    }

-- no time lies at a bound or after it, where none did before and the row comes before it
pub AreBefore-step : (end time : ℕ) (v : View) → AreBefore end v → time < end
    → (driven : List LineSet) (after : LineSet) → (data_lines : List ℕ) → ((line : ℕ) → line < 9
    → slice_index data_lines line ≡ newer (line_of line) v.present after (slice_index v.data_lines line) time)
    → (data_changed : ℕ) → data_changed ≡ newer data_of v.present after v.data_changed time
    → (times : LineTimes) → AreTimesBefore end times → AreBefore end (record {
      driven = driven;
      present = after;
      data_lines = data_lines;
      data_changed = data_changed;
      times = times;
      last = time;
    })
AreBefore-step end time v u h driven after data_lines a data_changed e times t = record {
  data_lines = λ line lt. newer_lt (line_of line) v.present after _ time _ end (a line lt) (u.data_lines line lt) h;
  data_changed = newer_lt data_of v.present after _ time _ end e u.data_changed h;
  times = t;
  last = h;
}

-- a later bound holds too
pub AreBefore-later : (end later : ℕ) (v : View) → end ≤ later → AreBefore end v → AreBefore later v
AreBefore-later end later v h u = record {
  data_lines = λ line lt. let le = u.data_lines line lt in omega arith;
  data_changed = let le = u.data_changed in omega arith;
  times = record {
    bsy = let le = u.times.bsy in omega arith;
    sel = let le = u.times.sel in omega arith;
    cd = let le = u.times.cd in omega arith;
    io = let le = u.times.io in omega arith;
    msg = let le = u.times.msg in omega arith;
    req = let le = u.times.req in omega arith;
    ack = let le = u.times.ack in omega arith;
    atn = let le = u.times.atn in omega arith;
    rst = let le = u.times.rst in omega arith;
  };
  last = let le = u.last in omega arith;
}

-- ---- lines by their numbers

-- what holds of 0 to 8 holds of each number below 9
below_9 : (P : ℕ → Type 0) → P 0 → P 1 → P 2 → P 3 → P 4 → P 5 → P 6 → P 7 → P 8 → (n : ℕ) → n < 9 → P n
below_9 P a b c d e f g h k zero lt = a
below_9 P a b c d e f g h k (suc n) lt = below_8 (λ m. P (suc m)) b c d e f g h k n (omega arith)

-- what holds of the data lines, and of the nine others, holds of every line
by_number : (P : ℕ → Type 0) → ((line : ℕ) → line < 9 → P line) → ((n : ℕ) → n < 9 → P (n + 9)) → (line : ℕ) → line < 18
    → P line
by_number P low others line lt = split (nat_lt line 9) refl
  where
    split : (q : Bool) → nat_lt line 9 ≡ q → P line
    split true e = low line (grind (arith, nat_tests))
    split false e =
        let high : 9 ≤ line = grind (arith, nat_tests) in
        let at : (line - 9) + 9 ≡ line = omega arith in
        subst P at (others (line - 9) (omega arith))

-- the time of a data line
data_time : (v : View) (line : ℕ) → line < 9 → time_of_line v line ≡ slice_index v.data_lines line
data_time v line lt =
    let e : nat_lt line 9 ≡ true = grind (arith, nat_tests) in
    (λ i. if e i then slice_index v.data_lines line else time_by_number v.times line)

pub other_time : (v : View) (line : ℕ) → 9 ≤ line → time_of_line v line ≡ time_by_number v.times line
other_time v line le =
    let e : nat_lt line 9 ≡ false = grind (arith, nat_tests) in
    (λ i. if e i then slice_index v.data_lines line else time_by_number v.times line)

-- the time of a line by its number is that of the rows
pub time_of_line_is : (rows : List Row) (v : View) → IsViewOf rows v → (line : ℕ) → line < 18
    → time_of_line v line ≡ since (line_of line) rows
time_of_line_is rows v h =
    by_number (λ line. time_of_line v line ≡ since (line_of line) rows)
    (λ line lt. data_time v line lt ∙ h.data_lines_are line lt)
    (below_9 (λ n. time_of_line v (n + 9) ≡ since (line_of (n + 9)) rows)
    ((λ i. (h.times_are i).bsy) ∙ sym (since_line_of 9 (λ s. s.bsy) line_bsy rows))
    ((λ i. (h.times_are i).sel) ∙ sym (since_line_of 10 (λ s. s.sel) line_sel rows))
    ((λ i. (h.times_are i).cd) ∙ sym (since_line_of 11 (λ s. s.cd) line_cd rows))
    ((λ i. (h.times_are i).io) ∙ sym (since_line_of 12 (λ s. s.io) line_io rows))
    ((λ i. (h.times_are i).msg) ∙ sym (since_line_of 13 (λ s. s.msg) line_msg rows))
    ((λ i. (h.times_are i).req) ∙ sym (since_line_of 14 (λ s. s.req) line_req rows))
    ((λ i. (h.times_are i).ack) ∙ sym (since_line_of 15 (λ s. s.ack) line_ack rows))
    ((λ i. (h.times_are i).atn) ∙ sym (since_line_of 16 (λ s. s.atn) line_atn rows))
    ((λ i. (h.times_are i).rst) ∙ sym (since_line_of 17 (λ s. s.rst) line_rst rows)))

-- a time that lay no later than a bound lies no later than it once a row comes at it
pub time_of_line-step : (time : ℕ) (v was : View) → v ≡ was → (new : View) → ((line : ℕ) → line < 9
    → slice_index new.data_lines line ≡ newer (line_of line) v.present new.present (slice_index v.data_lines line) time)
    → new.times ≡ times_after v.times v.present new.present time → (line : ℕ) → line < 18 → time_of_line was line ≤ time
    → time_of_line new line ≤ time
time_of_line-step time v was same new d t = subst (λ (x : View). (line : ℕ) → line < 18 → time_of_line x line ≤ time
    → time_of_line new line ≤ time) same (by_number (λ line. time_of_line v line ≤ time → time_of_line new line ≤ time)
    (λ line lt h. let was = data_time v line lt in let is = data_time new line lt in let le = newer_le (line_of line)
    v.present new.present (slice_index v.data_lines line) time _ (d line lt) (omega arith) in omega arith)
    (below_9 (λ n. time_of_line v (n + 9) ≤ time → time_of_line new (n + 9) ≤ time) (λ h. subst
    (λ (x : LineTimes). x.bsy ≤ time) (sym t) (if_le (same_line v.present.bsy new.present.bsy) v.times.bsy time h))
    (λ h. subst (λ (x : LineTimes). x.sel ≤ time) (sym t)
    (if_le (same_line v.present.sel new.present.sel) v.times.sel time h)) (λ h. subst (λ (x : LineTimes). x.cd ≤ time)
    (sym t) (if_le (same_line v.present.cd new.present.cd) v.times.cd time h)) (λ h. subst
    (λ (x : LineTimes). x.io ≤ time) (sym t) (if_le (same_line v.present.io new.present.io) v.times.io time h))
    (λ h. subst (λ (x : LineTimes). x.msg ≤ time) (sym t)
    (if_le (same_line v.present.msg new.present.msg) v.times.msg time h)) (λ h. subst (λ (x : LineTimes). x.req ≤ time)
    (sym t) (if_le (same_line v.present.req new.present.req) v.times.req time h)) (λ h. subst
    (λ (x : LineTimes). x.ack ≤ time) (sym t) (if_le (same_line v.present.ack new.present.ack) v.times.ack time h))
    (λ h. subst (λ (x : LineTimes). x.atn ≤ time) (sym t)
    (if_le (same_line v.present.atn new.present.atn) v.times.atn time h)) (λ h. subst (λ (x : LineTimes). x.rst ≤ time)
    (sym t) (if_le (same_line v.present.rst new.present.rst) v.times.rst time h))))

-- ---- a row that changes REQ, ACK and data lines alone

pub times_kept : (t : LineTimes) (before after : LineSet) (time : ℕ) → same_stage before after ≡ true
    → times_after_transfer t before after time ≡ times_after t before after time
times_kept t before after time h =
    let all = and_parts (same_hold before after && same_phase before after) (same_line before.atn after.atn) h in
    let both = and_parts (same_hold before after) (same_phase before after) all.0 in
    let hold = and_parts (same_line before.bsy after.bsy && same_line before.sel after.sel)
    (same_line before.rst after.rst) both.0 in
    let held = and_parts (same_line before.bsy after.bsy) (same_line before.sel after.sel) hold.0 in
    let phase = and_parts (same_line before.msg after.msg && same_line before.cd after.cd)
    (same_line before.io after.io) both.1 in
    let first = and_parts (same_line before.msg after.msg) (same_line before.cd after.cd) phase.0 in
    λ i. record {
      bsy = if sym held.0 i then t.bsy else time;
      sel = if sym held.1 i then t.sel else time;
      cd = if sym first.1 i then t.cd else time;
      io = if sym phase.1 i then t.io else time;
      msg = if sym first.0 i then t.msg else time;
      req = newer_line before.req after.req t.req time;
      ack = newer_line before.ack after.ack t.ack time;
      atn = if sym all.1 i then t.atn else time;
      rst = if sym hold.1 i then t.rst else time;
    }
