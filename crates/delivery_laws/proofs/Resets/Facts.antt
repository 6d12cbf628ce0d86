-- Row by row of a prompt trace: RST begins by the reset lines alone, and each of them has its row, or falls while its
-- device drives RST (6.2.2).
use Rattle.delivery_laws.proofs
use proofs.Names.{inl, inr, ℕ, ◌≡◌, ◌⊎◌, ◌+◌, ◌<◌, ◌≤◌, Bool, true, false, not, ◌&&◌, ◌||◌, ◌∙◌, List, [], ◌∷◌, Option}
use proofs.Names.{Some, None, refl, sym, ap, subst, cond, min, arith, and_from, eqb-true, eq-eqb, or_left, or_right}
use proofs.Names.{cases_Bool, nat_tests, same_Some, AllByRecursion, find, list_all, list_any, if◌then◌else◌, ◌==◌}
use proofs.Names.{is_some, nat_le, nat_lt, eq_self, wrong, wrong', rises, falls, change_of, LineSet, none, when, bus}
use proofs.Names.{drives, driven_after, Kind, Drives, Fault, Row, has_device, ScenarioValue, Obeys, HostDef, ResetDef}
use proofs.Names.{TargetDef, host_latency, latency_of, target_latency, earlier_due, sooner_time, time_if, rst_assertion}
use proofs.Names.{Due, least_none, is_reset_past, reset_from, IsLeast, IsEnded, IsPrompt, due, Own, own_after, own_of}
use proofs.Names.{AreOfDevices, obeys_fits, FitsBus, IsHostLine, IsTargetLine, drives_own, due_calm, due_holding}
use proofs.Names.{due_there, own_reset_is, off_at, is_at, least_is, obeys_latencies, reset_due, reset_due_if}
use proofs.Names.{unreset_due, CalmStanding, HasShortLatencies, from_link, runs_are_short, AnyStage, linked, none_some}
use proofs.Names.{Stood, whole, CalmRow, ResetRow, calm_row, lets_go, raises, reacts, resets, are_lines, are_releases}
use proofs.Names.{began_reset, begins_reset, ends_reset, has_line, has_reset, is_line_of, is_release, is_reset_over}
use proofs.{Names.{is_reset_row}, Resets.{Calm.{after_calm, apart_calm, unasked}, Devices.{device_there, resets_there}}}
use Rattle.progress_laws.specs.link_laws.specs.LinkStages.{apart}
use Rattle.right_laws.proofs.Samples.Resets.{under_reset}

-- ---- what a row does to the RST of its device

-- It raises RST as its reset, or its device does not drive RST after it.
data OwnReset (s : ScenarioValue) (p : List Row) (row : Row) : Type 0 where
  begins : (drives p row.dev).rst ≡ false
      → reset_due s p row.dev ≡ (let x : Due = record { time = row.time; kind = row.kind } in Some x) → OwnReset s p row
  is_off : (drives (row ∷ p) row.dev).rst ≡ false → OwnReset s p row

own_reset : (s : ScenarioValue) (p : List Row) (row : Row) → Obeys s → IsPrompt s (row ∷ p) → OwnReset s p row
own_reset s p row o prompt =
    elim (cases_Bool ((bus p).rst)) [
      | inl e ↦ by_reset (under_reset s p row was.standing.devices e m)
      | inr e ↦ by_calm e (calm_row s p row was.standing e m)
    ]
  where
    was : Stood s p
    was = (whole s p o prompt.0).stood

    m : IsLeast (due s p) 8 row
    m = least_is s p row prompt.1

    fits : HasShortLatencies s
    fits = obeys_latencies s o

    by_reset : ResetRow s p row → OwnReset s p row
    by_reset (raises off r e) = begins off r
    by_reset (lets_go e) = is_off (ap (λ (x : Row). (drives (x ∷ p) row.dev).rst) e
        ∙ ap (λ (l : LineSet). l.rst) (drives_own p row.time row.dev none))

    by_stage : (bus p).rst ≡ false → (bus (row ∷ p)).rst ≡ true → CalmStanding s p → IsLeast (unreset_due s p) 8 row
        → AnyStage s p → (bus (row ∷ p)).rst ≡ false
    by_stage calm on always least (apart h alone) = apart_calm s p row fits calm alone always least h
    by_stage calm on always least (linked n h) = after_calm s p row n (from_link s p row n fits
        (runs_are_short s (obeys_fits s o)) always was.standing.there h (unasked p row on) least)

    by_bus : (bus p).rst ≡ false → CalmStanding s p → IsLeast (unreset_due s p) 8 row
        → (q : Bool) → (bus (row ∷ p)).rst ≡ q → OwnReset s p row
    by_bus calm always least false e = is_off (off_at (row ∷ p) e row.dev m.inside)
    by_bus calm always least true e = wrong (sym e ∙ by_stage calm e always least was.here)

    by_calm : (bus p).rst ≡ false → CalmRow s p row → OwnReset s p row
    by_calm calm (resets off r e) = begins off r
    by_calm calm (reacts always least) = by_bus calm always least (bus (row ∷ p)).rst refl

-- ---- the next reset is that of a line, and no line that is not past comes before it

from_line : (dev : ℕ) (released : Option ℕ) (lines : List ResetDef) (t : ℕ) → reset_from dev released lines ≡ Some t
    → list_any (λ (r : ResetDef). is_line_of dev t r) lines ≡ true
from_line dev released [] t e = none_some t e
from_line dev released (r ∷ lines) t e = go (r.dev == dev) refl (not (is_reset_past released r.at))
    (reset_from dev released lines) e (λ z. from_line dev released lines t z)
  where
    here : (r.dev == dev) ≡ true → r.at ≡ t
        → (is_line_of dev t r || list_any (λ (x : ResetDef). is_line_of dev t x) lines) ≡ true
    here f g = or_left (is_line_of dev t r) (list_any (λ (x : ResetDef). is_line_of dev t x) lines)
        (and_from (r.dev == dev) (r.at == t) f (eq-eqb r.at t g))

    there : list_any (λ (x : ResetDef). is_line_of dev t x) lines ≡ true
        → (is_line_of dev t r || list_any (λ (x : ResetDef). is_line_of dev t x) lines) ≡ true
    there f = or_right (is_line_of dev t r) (list_any (λ (x : ResetDef). is_line_of dev t x) lines) f

    which : (a b u : ℕ) → min a b ≡ u → (a ≡ u) ⊎ (b ≡ u)
    which a b u z =
        elim (cases_Bool (nat_le a b)) [ inl e ↦ inl (sym (left a b e) ∙ z) | inr e ↦ inr (sym (right a b e) ∙ z) ]
      where
        left : (a b : ℕ) → nat_le a b ≡ true → min a b ≡ a
        left a b z = grind (arith, nat_tests)

        right : (a b : ℕ) → nat_le a b ≡ false → min a b ≡ b
        right a b z = grind (arith, nat_tests)

    go : (q : Bool) → (r.dev == dev) ≡ q → (x : Bool) (rest : Option ℕ)
        → sooner_time (time_if (q && x) r.at) rest ≡ Some t
        → (rest ≡ Some t → list_any (λ (y : ResetDef). is_line_of dev t y) lines ≡ true)
        → (is_line_of dev t r || list_any (λ (y : ResetDef). is_line_of dev t y) lines) ≡ true
    go false f x rest z more = there (more z)
    go true f false rest z more = there (more z)
    go true f true None z more = here f (same_Some r.at t z)
    go true f true (Some u) z more = by (which r.at u t (same_Some (min r.at u) t z))
      where
        by : (r.at ≡ t) ⊎ (u ≡ t) → (is_line_of dev t r || list_any (λ (y : ResetDef). is_line_of dev t y) lines) ≡ true
        by (inl y) = here f y
        by (inr y) = there (more (ap (λ (v : ℕ). Some v) y))

-- A line among them.
abbrev IsAmong : ResetDef → List ResetDef → Type 0
IsAmong r [] = ⊥
IsAmong r (x ∷ lines) = (r ≡ x) ⊎ IsAmong r lines

-- Until it is past, its device has a reset to come, not after it.
record ComesBy (o : Option ℕ) (time : ℕ) : Type 0 where
  at : ℕ
  is : o ≡ Some at
  le : at ≤ time

sooner_by : (a b : Option ℕ) (t : ℕ) → ComesBy a t ⊎ ComesBy b t → ComesBy (sooner_time a b) t
sooner_by None b t (inl w) = none_some w.at w.is
sooner_by None b t (inr w) = w
sooner_by (Some x) None t (inl w) = w
sooner_by (Some x) None t (inr w) = none_some w.at w.is
sooner_by (Some x) (Some y) t (inl w) =
    record { at = min x y; is = refl; le = bound x y w.at t (same_Some x w.at w.is) w.le }
  where
    bound : (x y a t : ℕ) → x ≡ a → a ≤ t → min x y ≤ t
    bound x y a t e f = grind (arith, nat_tests)
sooner_by (Some x) (Some y) t (inr w) =
    record { at = min x y; is = refl; le = bound x y w.at t (same_Some y w.at w.is) w.le }
  where
    bound : (x y a t : ℕ) → y ≡ a → a ≤ t → min x y ≤ t
    bound x y a t e f = grind (arith, nat_tests)

still_comes : (released : Option ℕ) (lines : List ResetDef) (r : ResetDef) → IsAmong r lines
    → is_reset_past released r.at ≡ false → ComesBy (reset_from r.dev released lines) r.at
still_comes released [] r among e = absurd among
still_comes released (x ∷ lines) r (inl same) e = sooner_by
    (time_if (x.dev == r.dev && not (is_reset_past released x.at)) x.at) (reset_from r.dev released lines) r.at
    (inl (record {
      at = r.at;
      is = (λ i. time_if ((sym same i).dev == r.dev && not (is_reset_past released (sym same i).at)) (sym same i).at)
          ∙ (λ i. time_if (eq_self r.dev i && not (e i)) r.at);
      le = at_most r.at;
    }))
  where
    at_most : (a : ℕ) → a ≤ a
    at_most a = omega arith
still_comes released (x ∷ lines) r (inr among) e = sooner_by
    (time_if (x.dev == r.dev && not (is_reset_past released x.at)) x.at) (reset_from r.dev released lines) r.at
    (inr (still_comes released lines r among e))

-- ---- a line, row by row

abbrev Comes : ScenarioValue → ℕ → ℕ → Type 0
Comes s dev time =
    (released : Option ℕ) → is_reset_past released time ≡ false → ComesBy (reset_from dev released s.resets) time

-- Once it is past, it had its row, or its device drove RST; and where its device drives RST and it is not past, that
-- began no later.
record Line (s : ScenarioValue) (p : List Row) (dev time : ℕ) : Type 0 where
  past : is_reset_past (own_of p dev).released time ≡ true → has_reset p dev time ≡ true
  held : (drives p dev).rst ≡ true → is_reset_past (own_of p dev).released time ≡ false
      → (began_reset p dev ≤ time) × ((began_reset p dev == time) ≡ true → has_reset p dev time ≡ true)

more_has : (p : List Row) (row : Row) (dev time : ℕ) → has_reset p dev time ≡ true → has_reset (row ∷ p) dev time ≡ true
more_has p row dev time e =
    or_right (is_reset_row p row dev time || is_reset_over p row dev time) (has_reset p dev time) e

same_line : (s : ScenarioValue) (p : List Row) (row : Row) (dev time : ℕ) → own_of (row ∷ p) dev ≡ own_of p dev
    → (drives (row ∷ p) dev).rst ≡ (drives p dev).rst → Line s p dev time → Line s (row ∷ p) dev time
same_line s p row dev time own driven h = record {
  past = λ e. more_has p row dev time (h.past ((λ i. is_reset_past (sym own i).released time) ∙ e));
  held = λ on e.
      let w = h.held (sym driven ∙ on) ((λ i. is_reset_past (sym own i).released time) ∙ e) in (
        subst (λ (x : Own). x.rst ≤ time) (sym own) w.0,
        λ z. more_has p row dev time (w.1 ((λ i. (sym own i).rst == time) ∙ z)),
      );
}

own_line : (s : ScenarioValue) (p : List Row) (row : Row) (time : ℕ) → OwnReset s p row → Comes s row.dev time
    → Line s p row.dev time → Line s (row ∷ p) row.dev time
own_line s p row time how comes h = by_kind row.kind refl
  where
    dev : ℕ
    dev = row.dev

    after : LineSet
    after = driven_after row.kind (drives p row.dev)

    driven : (drives (row ∷ p) dev).rst ≡ after.rst
    driven = λ i. (if eq_self row.dev i then driven_after row.kind (drives p row.dev) else drives p row.dev).rst

    own_kind : (v : Kind) → row.kind ≡ v
        → own_of (row ∷ p) dev ≡ Rattle.due_model.specs.Own.own_next v (own_of p dev) (change_of p row) row.time
    own_kind v e = λ i. if eq_self row.dev i
        then Rattle.due_model.specs.Own.own_next (e i) (own_of p row.dev) (change_of p row) row.time
        else own_of p row.dev

    by_lines : own_of (row ∷ p) dev ≡ own_after (own_of p dev) (change_of p row) row.time
        → (b : Bool) → (drives p dev).rst ≡ b → (a : Bool) → after.rst ≡ a → Line s (row ∷ p) dev time
    by_lines own false eb false ea = record {
      past = λ e. more_has p row dev time (h.past (ap (λ (x : Option ℕ). is_reset_past x time) (sym released) ∙ e));
      held = λ on e. wrong (sym on ∙ driven ∙ ea);
    }
      where
        released : (own_of (row ∷ p) dev).released ≡ (own_of p dev).released
        released = ap (λ (x : Own). x.released) own ∙ (λ i. when (falls (eb i) (ea i)) row.time (own_of p dev).released)
    by_lines own false eb true ea = record {
      past = λ e. more_has p row dev time (h.past (ap (λ (x : Option ℕ). is_reset_past x time) (sym released) ∙ e));
      held = λ on e. began
          (comes (own_of p dev).released (ap (λ (x : Option ℕ). is_reset_past x time) (sym released) ∙ e)) how;
    }
      where
        released : (own_of (row ∷ p) dev).released ≡ (own_of p dev).released
        released = ap (λ (x : Own). x.released) own ∙ (λ i. when (falls (eb i) (ea i)) row.time (own_of p dev).released)

        rst : began_reset (row ∷ p) dev ≡ row.time
        rst = ap (λ (x : Own). x.rst) own ∙ (λ i. if rises (eb i) (ea i) then row.time else (own_of p dev).rst)

        now : begins_reset p row ≡ true
        now = λ i. rises (eb i) ((driven ∙ ea) i)

        has : (began_reset (row ∷ p) dev == time) ≡ true → has_reset (row ∷ p) dev time ≡ true
        has z = or_left (is_reset_row p row dev time || is_reset_over p row dev time)
            (has_reset p dev time) (or_left (is_reset_row p row dev time) (is_reset_over p row dev time)
            (and_from (row.dev == dev) (row.time == time && begins_reset p row) (eq_self row.dev)
            (and_from (row.time == time) (begins_reset p row) (ap (λ (x : ℕ). x == time) (sym rst) ∙ z) now)))

        bound : (a t u time : ℕ) → a ≡ t → u ≡ t → a ≤ time → u ≤ time
        bound a t u time e f g = omega (arith, e, f, g)

        began : ComesBy (reset_from dev (own_of p dev).released s.resets) time → OwnReset s p row
            → (began_reset (row ∷ p) dev ≤ time)
            × ((began_reset (row ∷ p) dev == time) ≡ true → has_reset (row ∷ p) dev time ≡ true)
        began w (begins off r) = (
          bound w.at row.time (began_reset (row ∷ p) dev) time (same_Some w.at row.time
              (sym w.is ∙ (own_reset_is s p row.dev (record { time = row.time; kind = row.kind }) r).time_is)) rst w.le,
          has,
        )
        began w (is_off z) = wrong (sym ea ∙ sym driven ∙ z)
    by_lines own true eb false ea = record {
      past = λ e. over (is_reset_past (own_of p dev).released time) refl e;
      held = λ on e. wrong (sym on ∙ driven ∙ ea);
    }
      where
        released : (own_of (row ∷ p) dev).released ≡ Some row.time
        released = ap (λ (x : Own). x.released) own ∙ (λ i. when (falls (eb i) (ea i)) row.time (own_of p dev).released)

        ends : ends_reset p row ≡ true
        ends = λ i. falls (eb i) ((driven ∙ ea) i)

        late : (t u : ℕ) → not (nat_lt t u) ≡ true → nat_le u t ≡ true
        late t u e = grind (arith, nat_tests)

        sooner : (t u : ℕ) → t ≤ u → (t == u) ≡ false → nat_lt t u ≡ true
        sooner t u e f = grind (arith, nat_tests)

        over : (q : Bool) → is_reset_past (own_of p dev).released time ≡ q
            → is_reset_past (own_of (row ∷ p) dev).released time ≡ true → has_reset (row ∷ p) dev time ≡ true
        over true z e = more_has p row dev time (h.past z)
        over false z e = by_began (began_reset p dev == time) refl
          where
            w : (began_reset p dev ≤ time) × ((began_reset p dev == time) ≡ true → has_reset p dev time ≡ true)
            w = h.held eb z

            by_began : (x : Bool) → (began_reset p dev == time) ≡ x → has_reset (row ∷ p) dev time ≡ true
            by_began true y = more_has p row dev time (w.1 y)
            by_began false y = or_left (is_reset_row p row dev time || is_reset_over p row dev time)
                (has_reset p dev time) (or_right (is_reset_row p row dev time) (is_reset_over p row dev time) (and_from
                (row.dev == dev) (ends_reset p row && (nat_le time row.time && nat_lt (began_reset p dev) time))
                (eq_self row.dev) (and_from (ends_reset p row) (nat_le time row.time && nat_lt (began_reset p dev) time)
                ends (and_from (nat_le time row.time) (nat_lt (began_reset p dev) time)
                (late row.time time (ap (λ (x : Option ℕ). is_reset_past x time) (sym released) ∙ e))
                (sooner (began_reset p dev) time w.0 y)))))
    by_lines own true eb true ea = never how
      where
        never : OwnReset s p row → Line s (row ∷ p) dev time
        never (begins off r) = wrong (sym eb ∙ off)
        never (is_off z) = wrong (sym ea ∙ sym driven ∙ z)

    by_kind : (v : Kind) → row.kind ≡ v → Line s (row ∷ p) dev time
    by_kind (Fault bit) e = same_line s p row dev time (own_kind (Fault bit) e)
        (driven ∙ (λ i. (driven_after (e i) (drives p row.dev)).rst)) h
    by_kind (Drives l) e = by_lines (own_kind (Drives l) e) (drives p dev).rst refl after.rst refl

line_next : (s : ScenarioValue) (p : List Row) (row : Row) (dev time : ℕ) → OwnReset s p row → Comes s dev time
    → Line s p dev time → Line s (row ∷ p) dev time
line_next s p row dev time how = go (row.dev == dev) refl
  where
    go : (q : Bool) → (row.dev == dev) ≡ q → Comes s dev time → Line s p dev time → Line s (row ∷ p) dev time
    go false e comes h = same_line s p row dev time
        (λ i. if e i then Rattle.due_model.specs.Own.own_next row.kind (own_of p dev) (change_of p row) row.time
        else own_of p dev) (λ i. (if e i then driven_after row.kind (drives p dev) else drives p dev).rst) h
    go true e comes h = subst (λ (d : ℕ). Comes s d time → Line s p d time → Line s (row ∷ p) d time)
        (eqb-true row.dev dev e) (own_line s p row time how) comes h

all_lines : (s : ScenarioValue) (p : List Row) (dev time : ℕ) → Obeys s → IsPrompt s p → Comes s dev time
    → Line s p dev time
all_lines s [] dev time o prompt comes = record { past = λ e. wrong' e; held = λ on e. wrong' on }
all_lines s (row ∷ p) dev time o prompt comes =
    line_next s p row dev time (own_reset s p row o prompt) comes (all_lines s p dev time o prompt.0 comes)

-- ---- at the end of a trace

none_first : (a b : Option Due) → earlier_due a b ≡ None → a ≡ None
none_first None b e = refl
none_first (Some x) None e = none_some x (sym e)
none_first (Some x) (Some y) e = none_some _ (sym e)

none_asserted : (o : Option ℕ) → rst_assertion o ≡ None → o ≡ None
none_asserted None e = refl
none_asserted (Some t) e = none_some _ (sym e)

line_at_end : (s : ScenarioValue) (p : List Row) (dev lat time : ℕ) → Obeys s → IsPrompt s p → IsEnded s p → dev < 8
    → latency_of s dev ≡ Some lat → Comes s dev time → has_reset p dev time ≡ true
line_at_end s p dev lat time o prompt end lt there comes = go (drives p dev).rst refl
  where
    devices : AreOfDevices p
    devices = (whole s p o prompt).stood.standing.devices

    h : Line s p dev time
    h = all_lines s p dev time o prompt comes

    over : due s p dev ≡ None
    over = least_none (due s p) 8 end dev lt

    by_past : reset_from dev (own_of p dev).released s.resets ≡ None
        → (q : Bool) → is_reset_past (own_of p dev).released time ≡ q → has_reset p dev time ≡ true
    by_past none_left true e = h.past e
    by_past none_left false e = let w = comes (own_of p dev).released e in none_some w.at (sym none_left ∙ w.is)

    go : (q : Bool) → (drives p dev).rst ≡ q → has_reset p dev time ≡ true
    go true on = none_some _ (sym over ∙ due_holding s p dev lat devices lt there on)
    go false off =
        let quiet : reset_due s p dev ≡ None = none_first (reset_due s p dev)
        (unreset_due s p dev) (sym (due_calm s p dev devices lt off) ∙ over) in
        by_past (none_asserted (reset_from dev (own_of p dev).released s.resets)
        (ap (reset_due_if s p dev) (sym there) ∙ quiet)) (is_reset_past (own_of p dev).released time) refl

-- ---- all rows

pub begin_by_lines : (s : ScenarioValue) (p : List Row) → Obeys s → IsPrompt s p → are_lines s p ≡ true
begin_by_lines s [] o prompt = refl
begin_by_lines s (row ∷ p) o prompt = and_from
    (not (begins_reset p row) || list_any (λ (r : ResetDef). is_line_of row.dev row.time r) s.resets) (are_lines s p)
    (go (begins_reset p row) refl (own_reset s p row o prompt)) (begin_by_lines s p o prompt.0)
  where
    off_again : (b a : Bool) → a ≡ false → rises b a ≡ true → ⊥
    off_again true true e z = wrong e
    off_again true false e z = wrong' z
    off_again false true e z = wrong e
    off_again false false e z = wrong' z

    go : (q : Bool) → begins_reset p row ≡ q → OwnReset s p row
        → (not q || list_any (λ (r : ResetDef). is_line_of row.dev row.time r) s.resets) ≡ true
    go false e how = refl
    go true e (begins off r) = from_line row.dev (own_of p row.dev).released s.resets row.time
        (own_reset_is s p row.dev (record { time = row.time; kind = row.kind }) r).time_is
    go true e (is_off z) = absurd (off_again (drives p row.dev).rst (drives (row ∷ p) row.dev).rst z e)

pub end_in_time : (s : ScenarioValue) (p : List Row) → Obeys s → IsPrompt s p → are_releases s p ≡ true
end_in_time s [] o prompt = refl
end_in_time s (row ∷ p) o prompt = and_from (not (drives p row.dev).rst || is_release p row (latency_of s row.dev))
    (are_releases s p) (go (drives p row.dev).rst refl) (end_in_time s p o prompt.0)
  where
    m : IsLeast (due s p) 8 row
    m = least_is s p row prompt.1

    x : Due
    x = record { time = row.time; kind = row.kind }

    go : (q : Bool) → (drives p row.dev).rst ≡ q → (not q || is_release p row (latency_of s row.dev)) ≡ true
    go false e = refl
    go true e =
        let l = due_there s p row.dev x m.is_due in
        let is = is_at ((own_of p row.dev).rst + 25000 + l.latency) none x
        (sym (due_holding s p row.dev l.latency (whole s p o prompt.0).stood.standing.devices m.inside l.latency_is e)
        ∙ m.is_due) in
        ap (is_release p row) l.latency_is
        ∙ and_from (ends_reset p row) (row.time == began_reset p row.dev + 25000 + l.latency) (λ i. falls (e i)
        (if eq_self row.dev i then driven_after (is.kind_is i) (drives p row.dev) else drives p row.dev).rst)
        (eq-eqb row.time (began_reset p row.dev + 25000 + l.latency) is.time_is)

-- ---- each line

found_all : {A : Type 0} (q : A → Type 0) (f : A → Bool) (xs : List A) (x : A) → AllByRecursion q xs
    → find f xs ≡ Some x → q x × (f x ≡ true)
found_all q f [] x h e = none_some x e
found_all q f (y ∷ xs) x h e = go (f y) refl e (λ z. found_all q f xs x h.1 z)
  where
    go : (b : Bool) → f y ≡ b → cond b (Some y) (find f xs) ≡ Some x
        → (find f xs ≡ Some x → q x × (f x ≡ true)) → q x × (f x ≡ true)
    go true z g rest = let same = same_Some y x g in (subst q same h.0, ap f (sym same) ∙ z)
    go false z g rest = rest g

-- A device that is there is one of eight.
there_below : (s : ScenarioValue) (dev lat : ℕ) → Obeys s → latency_of s dev ≡ Some lat → dev < 8
there_below s dev lat o e = by_target (find (λ (t : TargetDef). t.dev == dev) s.targets) refl e
  where
    fits : FitsBus s
    fits = obeys_fits s o

    by_host : (x : Option HostDef) → find (λ (h : HostDef). h.dev == dev) s.hosts ≡ x → host_latency x ≡ Some lat
        → dev < 8
    by_host None f z = none_some lat z
    by_host (Some h) f z =
        let w = found_all (λ (y : HostDef). IsHostLine s y) (λ (y : HostDef). y.dev == dev) s.hosts h fits.hosts f in
        subst (λ (d : ℕ). d < 8) (eqb-true h.dev dev w.1) w.0.below

    by_target : (x : Option TargetDef) → find (λ (t : TargetDef). t.dev == dev) s.targets ≡ x
        → target_latency x (host_latency (find (λ (h : HostDef). h.dev == dev) s.hosts)) ≡ Some lat → dev < 8
    by_target None f z = by_host (find (λ (h : HostDef). h.dev == dev) s.hosts) refl z
    by_target (Some t) f z =
        let w = found_all (λ (y : TargetDef). IsTargetLine s y)
        (λ (y : TargetDef). y.dev == dev) s.targets t fits.targets f in
        subst (λ (d : ℕ). d < 8) (eqb-true t.dev dev w.1) w.0.below

there : (s : ScenarioValue) (lines : List ResetDef) (r : ResetDef) → IsAmong r lines
    → AllByRecursion (λ (x : ResetDef). has_device s x.dev ≡ true) lines → has_device s r.dev ≡ true
there s [] r among h = absurd among
there s (x ∷ lines) r (inl same) h = ap (λ (y : ResetDef). has_device s y.dev) same ∙ h.0
there s (x ∷ lines) r (inr among) h = there s lines r among h.1

line_has : (s : ScenarioValue) (p : List Row) (r : ResetDef) → Obeys s → IsPrompt s p → IsEnded s p → IsAmong r s.resets
    → has_line p r ≡ true
line_has s p r o prompt end among =
    go (latency_of s r.dev) refl (device_there s r.dev (there s s.resets r among (resets_there s o)))
  where
    go : (x : Option ℕ) → latency_of s r.dev ≡ x → is_some x ≡ true → has_reset p r.dev r.at ≡ true
    go None e some = wrong' some
    go (Some lat) e some = line_at_end s p r.dev lat r.at o prompt end (there_below s r.dev lat o e) e
        (λ released z. still_comes released s.resets r among z)

lines_have : (s : ScenarioValue) (p : List Row) (lines : List ResetDef) → Obeys s → IsPrompt s p → IsEnded s p
    → ((r : ResetDef) → IsAmong r lines → IsAmong r s.resets) → list_all (λ (r : ResetDef). has_line p r) lines ≡ true
lines_have s p [] o prompt end among = refl
lines_have s p (r ∷ lines) o prompt end among = and_from (has_line p r)
    (list_all (λ (x : ResetDef). has_line p x) lines) (line_has s p r o prompt end (among r (inl refl)))
    (lines_have s p lines o prompt end (λ x z. among x (inr z)))

pub lines_have_rows : (s : ScenarioValue) (p : List Row) → Obeys s → IsPrompt s p → IsEnded s p
    → list_all (λ (r : ResetDef). has_line p r) s.resets ≡ true
lines_have_rows s p o prompt end = lines_have s p s.resets o prompt end (λ r z. z)
