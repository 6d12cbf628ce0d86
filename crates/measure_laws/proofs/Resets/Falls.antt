-- RST: the row that raises it pays with its reset, and each release under it with the device that drives a line no more
-- (6.2.2).
use Rattle.measure_laws.proofs
use proofs.Names.{inl, inr, ℕ, suc, ◌≡◌, ◌≢◌, ◌≤◌, ◌<◌, Bool, true, false, ◌&&◌, ◌∙◌, List, [], ◌∷◌, Option, Some, None}
use proofs.Names.{refl, sym, ap, subst, arith, cases_eq, eqb-true, nat_tests, same_Some, none-some, ◌+◌, not, ◌*◌, ◌==◌}
use proofs.Names.{◌||◌, is_none, min, nat_lt, if◌then◌else◌, and_first, and_second, wrong, wrong', none_number, bus_off}
use proofs.Names.{bus_on, change_of, falls, rises, LineSet, none, same_set, arbitration, arbitration_after, call}
use proofs.Names.{call_goes_on, connection, connection_after, free_since, is_free, when, bus, drives, free_time}
use proofs.Names.{line_times, Row, Arbitration, Change, Call, stage_by, only_rst, broken_rule, ScenarioValue, ResetDef}
use proofs.Names.{RowReading, row_reading, Sent, is_open, story_after_events, is_arbitration_entry, story_after_calling}
use proofs.Names.{story_with_aim, bus_clear, due_at, earlier_due, sooner_time, time_if, Due, run_state_plain}
use proofs.Names.{is_reset_past, reset_from, IsLeast, due, own_at, own_after, own_of, AreOfDevices, IsPlain, RunState}
use proofs.Names.{bus_of, drives_of, run_state, is_refusing, is_struck_phase, change_plain, nothing_shown, on_free}
use proofs.Names.{drives_own, drives_other, due_calm, due_holding, due_there, one_of, own_reset_is, released_own}
use proofs.Names.{reset_after, rst_own, off_at, due_in_reset, is_at, row_is, always_is, calm_first, device_with}
use proofs.Names.{own_time, reset_due, unreset_due, row_of_lines, BusStage, CalmStanding, HoldsReset, IsUnderRst}
use proofs.Names.{Standing, UnderRst, holds, lingers, quiet, by_bool, under_rst, bsy_stands, ends_apart, FallsQuiet}
use proofs.Names.{falls_quiet, awaits_reset, future_left, one_where, resets_left, connection_if, measure, measure_by}
use proofs.{Names.{connection_left, drivers, stage_left}, Lines.{Futures.{future_falls}, Lowers.{lowers_same}}}
use proofs.Resets.{Closed.{closed_under_reset, under_reset_row}, Counts.{driven_other, owns_other, resets_stay}}
use proofs.Resets.Drivers.{few_drivers, lets_go}

-- ---- the count of resets, by what the device of the row awaits before and after it

one_less : (a b : Bool) → (a ≡ true → b ≡ true) → one_where a ≤ one_where b
one_less false b f = omega arith
one_less true false f = wrong' (f refl)
one_less true true f = omega arith

-- A reset of another device.
other_awaits : (s : ScenarioValue) (p : List Row) (t d : ℕ) (l : LineSet) (dev at : ℕ) → d ≢ dev
    → awaits_reset (drives_of (run_state s (row_of_lines t d l ∷ p)) dev).rst
    (own_at (run_state s (row_of_lines t d l ∷ p)).owns dev) at
    ≡ awaits_reset (drives_of (run_state s p) dev).rst (own_at (run_state s p).owns dev) at
other_awaits s p t d l dev at ne =
    let k = run_state s p in
    let c = (row_reading k.story.bus_state (row_of_lines t d l)).change in
    λ i. awaits_reset (driven_other k.story.bus_state.driven d dev c.next ne i).rst
    (owns_other k.owns d dev (own_after (own_at k.owns d) c t) ne i) at

-- What its own device awaits.
abbrev pub awaits : ScenarioValue → List Row → ℕ → ℕ → Bool
awaits s p d at = awaits_reset (drives p d).rst (own_of p d) at

awaits_is : (s : ScenarioValue) (p : List Row) (d at : ℕ) → AreOfDevices p → d < 8
    → awaits_reset (drives_of (run_state s p) d).rst (own_at (run_state s p).owns d) at ≡ awaits s p d at
awaits_is s p d at dv lt =
    let pk = run_state_plain s p dv in
    λ i. awaits_reset (pk.drives d lt i).rst (pk.own d lt i) at

-- One reset line, where the device of the row awaits none that it did not await.
reset_less : (s : ScenarioValue) (p : List Row) (t d : ℕ) (l : LineSet) (dev at : ℕ) → AreOfDevices p
    → d < 8 → (awaits s (row_of_lines t d l ∷ p) d at ≡ true → awaits s p d at ≡ true)
    → one_where (awaits_reset (drives_of (run_state s (row_of_lines t d l ∷ p)) dev).rst
    (own_at (run_state s (row_of_lines t d l ∷ p)).owns dev) at)
    ≤ one_where (awaits_reset (drives_of (run_state s p) dev).rst (own_at (run_state s p).owns dev) at)
reset_less s p t d l dev at dv lt f = elim (cases_eq d dev) [
  | inl e ↦ subst (λ (x : ℕ). one_where (awaits_reset (drives_of j x).rst (own_at j.owns x) at)
      ≤ one_where (awaits_reset (drives_of k x).rst (own_at k.owns x) at)) e own
  | inr ne ↦
      let same = other_awaits s p t d l dev at ne in
      subst (λ (q : Bool). one_where q ≤ one_where (awaits_reset (drives_of k dev).rst (own_at k.owns dev) at))
      (sym same) (omega arith)
]
  where
    j : RunState
    j = run_state s (row_of_lines t d l ∷ p)

    k : RunState
    k = run_state s p

    own : one_where (awaits_reset (drives_of j d).rst (own_at j.owns d) at)
        ≤ one_where (awaits_reset (drives_of k d).rst (own_at k.owns d) at)
    own = one_less _ _
        (λ z. awaits_is s p d at dv lt ∙ f (sym (awaits_is s (row_of_lines t d l ∷ p) d at (lt, dv) lt) ∙ z))

pub resets_less : (s : ScenarioValue) (p : List Row) (t d : ℕ) (l : LineSet) (resets : List ResetDef)
    → AreOfDevices p → d < 8 → ((at : ℕ) → awaits s (row_of_lines t d l ∷ p) d at ≡ true → awaits s p d at ≡ true)
    → resets_left (run_state s (row_of_lines t d l ∷ p)) resets ≤ resets_left (run_state s p) resets
resets_less s p t d l [] dv lt f = omega arith
resets_less s p t d l (r ∷ resets) dv lt f =
    let one = reset_less s p t d l r.dev r.at dv lt (f r.at) in
    let rest = resets_less s p t d l resets dv lt f in
    omega arith

-- ---- a device raises RST, for a reset at this time

-- What it awaits then, and what it awaited.
after_rise : (s : ScenarioValue) (p : List Row) (t d at : ℕ) → (drives p d).rst ≡ false
    → awaits s (row_of_lines t d only_rst ∷ p) d at ≡ nat_lt t at
after_rise s p t d at off =
    let q : List Row = row_of_lines t d only_rst ∷ p in
    let on : (drives q d).rst ≡ true = ap (λ (l : LineSet). l.rst) (drives_own p t d only_rst) in
    let time : (own_of q d).rst ≡ t = rst_own p t d only_rst
    ∙ (λ i. if rises (off i) true then t else (own_of p d).rst) in
    (λ i. awaits_reset (on i) (own_of q d) at) ∙ ap (λ (x : ℕ). nat_lt x at) time

before_rise : (s : ScenarioValue) (p : List Row) (d at : ℕ) → (drives p d).rst ≡ false
    → awaits s p d at ≡ not (is_reset_past (own_of p d).released at)
before_rise s p d at off = λ i. awaits_reset (off i) (own_of p d) at

later_too : (released : Option ℕ) (t at : ℕ) → ((x : ℕ) → released ≡ Some x → x < t) → nat_lt t at ≡ true
    → not (is_reset_past released at) ≡ true
later_too None t at f e = refl
later_too (Some x) t at f e = let h = f x refl in by x t at h e
  where
    by : (x t at : ℕ) → x < t → nat_lt t at ≡ true → not (not (nat_lt x at)) ≡ true
    by x t at h e = go (nat_lt x at) refl
      where
        go : (q : Bool) → nat_lt x at ≡ q → not (not q) ≡ true
        go true z = refl
        go false z = absurd (no x t at h e z)
          where
            no : (x t at : ℕ) → x < t → nat_lt t at ≡ true → nat_lt x at ≡ false → ⊥
            no x t at h e z = grind (arith, nat_tests)

same_time_not : (t : ℕ) → nat_lt t t ≡ false
same_time_not t = grind (arith, nat_tests)

one_of_two : (a b t : ℕ) → min a b ≡ t → a ≢ t → b ≡ t
one_of_two a b t e ne = grind arith

pub resets_pay : (s : ScenarioValue) (p : List Row) (t d : ℕ) (resets : List ResetDef)
    → AreOfDevices p → d < 8 → (drives p d).rst ≡ false
    → ((x : ℕ) → (own_of p d).released ≡ Some x → x < t) → reset_from d (own_of p d).released resets ≡ Some t
    → resets_left (run_state s (row_of_lines t d only_rst ∷ p)) resets + 1 ≤ resets_left (run_state s p) resets
resets_pay s p t d [] dv lt off late e = absurd (none_number t e)
resets_pay s p t d (r ∷ resets) dv lt off late e = go (r.dev == d && not (is_reset_past (own_of p d).released r.at))
    refl (reset_from d (own_of p d).released resets) refl e (λ z. resets_pay s p t d resets dv lt off late z)
  where
    j : RunState
    j = run_state s (row_of_lines t d only_rst ∷ p)

    k : RunState
    k = run_state s p

    fewer : (at : ℕ) → awaits s (row_of_lines t d only_rst ∷ p) d at ≡ true → awaits s p d at ≡ true
    fewer at z =
        before_rise s p d at off ∙ later_too (own_of p d).released t at late (sym (after_rise s p t d at off) ∙ z)

    one : one_where (awaits_reset (drives_of j r.dev).rst (own_at j.owns r.dev) r.at)
        ≤ one_where (awaits_reset (drives_of k r.dev).rst (own_at k.owns r.dev) r.at)
    one = reset_less s p t d only_rst r.dev r.at dv lt (fewer r.at)

    rest : resets_left j resets ≤ resets_left k resets
    rest = resets_less s p t d only_rst resets dv lt fewer

    -- The reset of this time is made.
    made : (r.dev == d && not (is_reset_past (own_of p d).released r.at)) ≡ true → r.at ≡ t
        → one_where (awaits_reset (drives_of j r.dev).rst (own_at j.owns r.dev) r.at) + 1
        ≤ one_where (awaits_reset (drives_of k r.dev).rst (own_at k.owns r.dev) r.at)
    made z same =
        let dev : r.dev ≡ d = eqb-true r.dev d
        (and_first (r.dev == d) (not (is_reset_past (own_of p d).released r.at)) z) in
        let before : awaits s p d r.at ≡ true = before_rise s p d r.at off
        ∙ and_second (r.dev == d) (not (is_reset_past (own_of p d).released r.at)) z in
        let after : awaits s (row_of_lines t d only_rst ∷ p) d r.at ≡ false = after_rise s p t d r.at off
        ∙ ap (λ (x : ℕ). nat_lt t x) same ∙ same_time_not t in
        let first : awaits_reset (drives_of j r.dev).rst (own_at j.owns r.dev) r.at ≡ false =
        (λ i. awaits_reset (drives_of j (dev i)).rst (own_at j.owns (dev i)) r.at)
        ∙ awaits_is s (row_of_lines t d only_rst ∷ p) d r.at (lt, dv) lt ∙ after in
        let second : awaits_reset (drives_of k r.dev).rst (own_at k.owns r.dev) r.at ≡ true =
        (λ i. awaits_reset (drives_of k (dev i)).rst (own_at k.owns (dev i)) r.at)
        ∙ awaits_is s p d r.at dv lt ∙ before in
        let a = ap one_where first in
        let b = ap one_where second in
        omega arith

    paid : one_where (awaits_reset (drives_of j r.dev).rst (own_at j.owns r.dev) r.at) + 1
        ≤ one_where (awaits_reset (drives_of k r.dev).rst (own_at k.owns r.dev) r.at)
        → resets_left j (r ∷ resets) + 1 ≤ resets_left k (r ∷ resets)
    paid h = let w = rest in omega arith

    passed : resets_left j resets + 1 ≤ resets_left k resets
        → resets_left j (r ∷ resets) + 1 ≤ resets_left k (r ∷ resets)
    passed h = let w = one in omega arith

    go : (q : Bool) → (r.dev == d && not (is_reset_past (own_of p d).released r.at)) ≡ q
        → (o : Option ℕ) → reset_from d (own_of p d).released resets ≡ o → sooner_time (time_if q r.at) o ≡ Some t
        → (reset_from d (own_of p d).released resets ≡ Some t → resets_left j resets + 1 ≤ resets_left k resets)
        → resets_left j (r ∷ resets) + 1 ≤ resets_left k (r ∷ resets)
    go false z o f g more = passed (more (f ∙ g))
    go true z None f g more = paid (made z (same_Some r.at t g))
    go true z (Some y) f g more = elim (cases_eq r.at t) [
      | inl same ↦ paid (made z same)
      | inr ne ↦ passed (more (f ∙ ap (λ (m : ℕ). Some m) (one_of_two r.at y t (same_Some (min r.at y) t g) ne)))
    ]

-- ---- the measure under RST

shape_reset : (s : ScenarioValue) (k : RunState) (a b : Bool) → (bus_of k).rst ≡ true
    → measure_by s k a b ≡ future_left s k + (40 + drivers k) + 0
shape_reset s k a b on = λ i. future_left s k + stage_left k
    (stage_by (on i) k.ages.rst k.story.bus_state.connection k.story.bus_state.call k.arbitration (free_time k.ages))
    + connection_left s k a b (connection_if (on i) k.story.bus_state.connection)

raised_less : (f g v m : ℕ) → f + 64 * 1 ≤ g → v ≤ 8 → g ≤ m → suc (f + (40 + v) + 0) ≤ m
raised_less f g v m h e w = omega arith

at_least : (s : ScenarioValue) (k : RunState) (a b : Bool) → future_left s k ≤ measure_by s k a b
at_least s k a b = omega arith

-- With rows of lines nothing but what is sent and the resets concern what is still to come, where no command is open.
pub calm_future : (s : ScenarioValue) (p : List Row) (t d : ℕ) (l : LineSet) (g : ℕ)
    → AreOfDevices p → d < 8 → (bus (row_of_lines t d l ∷ p)).rst ≡ true
    → resets_left (run_state s (row_of_lines t d l ∷ p)) s.resets + g ≤ resets_left (run_state s p) s.resets
    → future_left s (run_state s (row_of_lines t d l ∷ p)) + 64 * g ≤ future_left s (run_state s p)
calm_future s p t d l g dv lt on r =
    let u = under_reset_row s p (row_of_lines t d l) dv lt on in
    let closed = closed_under_reset s (row_of_lines t d l ∷ p) (lt, dv) on in
    future_falls s (run_state s (row_of_lines t d l ∷ p)) (run_state s p) g (record {
      sent = u.lowers;
      «open» = λ n c at z. wrong (sym z ∙ closed n c at);
      resets = r;
      faults = refl;
    })

-- A device raises RST.
pub raise_falls : (s : ScenarioValue) (p : List Row) (t d : ℕ) → AreOfDevices p → d < 8
    → (drives p d).rst ≡ false → reset_from d (own_of p d).released s.resets ≡ Some t
    → suc (measure s (row_of_lines t d only_rst ∷ p)) ≤ measure s p
raise_falls s p t d dv lt off e =
    let q : List Row = row_of_lines t d only_rst ∷ p in
    let j = run_state s q in
    let k = run_state s p in
    let on : (bus q).rst ≡ true = bus_on (λ (y : LineSet). y.rst)
    (λ _ _. refl) q d lt (ap (λ (y : LineSet). y.rst) (drives_own p t d only_rst)) in
    let pj = run_state_plain s q (lt, dv) in
    let late : (x : ℕ) → (own_of p d).released ≡ Some x → x < t = λ x z. reset_after d x s.resets t
    (ap (λ (o : Option ℕ). reset_from d o s.resets) (sym z) ∙ e) in
    let pay = resets_pay s p t d s.resets dv lt off late e in
    let future = calm_future s p t d only_rst 1 dv lt on pay in
    let shape = shape_reset s j (is_struck_phase s q) (is_refusing s q) (ap (λ (l : LineSet). l.rst) pj.bus ∙ on) in
    subst (λ (m : ℕ). suc m ≤ measure s p) (sym shape) (raised_less (future_left s j) (future_left s k) (drivers j)
    (measure s p) future (few_drivers j) (at_least s k (is_struck_phase s p) (is_refusing s p)))

-- ---- a device lets go under RST

let_go_less : (f g v w : ℕ) → f + 64 * 0 ≤ g → suc v ≡ w → suc (f + (40 + v) + 0) ≤ g + (40 + w) + 0
let_go_less f g v w h e = omega arith

-- RST stays true with it.
pub lowers_drivers : (s : ScenarioValue) (p : List Row) (t d : ℕ) → AreOfDevices p → d < 8
    → (bus p).rst ≡ true → (bus (row_of_lines t d none ∷ p)).rst ≡ true → same_set (drives p d) none ≡ false
    → resets_left (run_state s (row_of_lines t d none ∷ p)) s.resets + 0 ≤ resets_left (run_state s p) s.resets
    → suc (measure s (row_of_lines t d none ∷ p)) ≤ measure s p
lowers_drivers s p t d dv lt was on some less =
    let q : List Row = row_of_lines t d none ∷ p in
    let j = run_state s q in
    let k = run_state s p in
    let pj = run_state_plain s q (lt, dv) in
    let pk = run_state_plain s p dv in
    let future = calm_future s p t d none 0 dv lt on less in
    let before = shape_reset s k (is_struck_phase s p) (is_refusing s p) (ap (λ (l : LineSet). l.rst) pk.bus ∙ was) in
    let after = shape_reset s j (is_struck_phase s q) (is_refusing s q) (ap (λ (l : LineSet). l.rst) pj.bus ∙ on) in
    subst (λ (m : ℕ). suc m ≤ measure s p) (sym after)
    (subst (λ (m : ℕ). suc (future_left s j + (40 + drivers j) + 0) ≤ m) (sym before)
    (let_go_less (future_left s j) (future_left s k) (drivers j) (drivers k) future (lets_go s p t d dv lt some)))

-- RST stays true where a device releases other lines.
stays_true : (p : List Row) (t d : ℕ) → (bus p).rst ≡ true → d < 8 → (drives p d).rst ≡ false
    → (bus (row_of_lines t d none ∷ p)).rst ≡ true
stays_true p t d rst lt off =
    by_bool (bus q).rst
    (λ h. h)
    (λ h. wrong (sym rst ∙ bus_off (λ y. y.rst) (λ _ _. refl) refl p (all_off h)))
  where
    q : List Row
    q = row_of_lines t d none ∷ p

    all_off : (bus q).rst ≡ false → (e : ℕ) → e < 8 → (drives p e).rst ≡ false
    all_off h e le =
        elim (cases_eq e d) [
          | inl same ↦ ap (λ (m : ℕ). (drives p m).rst) same ∙ off
          | inr ne ↦ ap (λ (y : LineSet). y.rst) (sym (drives_other p t d none e ne)) ∙ off_at q h e le
        ]

-- A device releases what it drove, but not RST.
pub clear_falls : (s : ScenarioValue) (p : List Row) (t d : ℕ) → AreOfDevices p → d < 8
    → (bus p).rst ≡ true → (drives p d).rst ≡ false → same_set (drives p d) none ≡ false
    → suc (measure s (row_of_lines t d none ∷ p)) ≤ measure s p
clear_falls s p t d dv lt was off some =
    let same = resets_stay s p t d none s.resets dv lt off refl in
    lowers_drivers s p t d dv lt was (stays_true p t d was lt off) some (no_more _ _ same)
  where
    no_more : (a b : ℕ) → a ≡ b → a + 0 ≤ b
    no_more a b e = omega arith

-- ---- a device releases RST

later_not : (x t at : ℕ) → x + 25000 ≤ t → not (not (nat_lt t at)) ≡ true → nat_lt x at ≡ true
later_not x t at h e = go (nat_lt t at) refl e
  where
    far : (x t at : ℕ) → x + 25000 ≤ t → nat_lt t at ≡ true → nat_lt x at ≡ true
    far x t at h e = grind (arith, nat_tests)

    go : (q : Bool) → nat_lt t at ≡ q → not (not q) ≡ true → nat_lt x at ≡ true
    go true z f = far x t at h z
    go false z f = wrong' f

-- It awaits no reset that it did not await.
release_awaits : (s : ScenarioValue) (p : List Row) (t d : ℕ) → (drives p d).rst ≡ true → (own_of p d).rst + 25000 ≤ t
    → (at : ℕ) → awaits s (row_of_lines t d none ∷ p) d at ≡ true → awaits s p d at ≡ true
release_awaits s p t d on wait at e =
    (λ i. awaits_reset (on i) (own_of p d) at) ∙ later_not (own_of p d).rst t at wait (sym after ∙ e)
  where
    q : List Row
    q = row_of_lines t d none ∷ p

    released : (own_of q d).released ≡ Some t
    released = released_own p t d none ∙ (λ i. when (falls (on i) false) t (own_of p d).released)

    after : awaits s q d at ≡ not (not (nat_lt t at))
    after = (λ i. awaits_reset (drives_own p t d none i).rst (own_of q d) at)
        ∙ ap (λ (o : Option ℕ). not (is_reset_past o at)) released

no_more_than : (a b : ℕ) → a ≤ b → a + 0 ≤ b
no_more_than a b h = omega arith

-- The last: no line is true after it, and the bus is free.
pub shape_free : (s : ScenarioValue) (k : RunState) (a b : Bool) → (bus_of k).rst ≡ false
    → k.story.bus_state.connection ≡ None → k.story.bus_state.call ≡ None → k.arbitration ≡ None
    → measure_by s k a b ≡ future_left s k + 40 + 0
shape_free s k a b off con cl arb =
    λ i. future_left s k + stage_left k (stage_by (off i) k.ages.rst (con i) (cl i) (arb i) (free_time k.ages))
    + connection_left s k a b (connection_if (off i) (con i))

abbrev begins_if : Bool → Arbitration → Option Arbitration
begins_if q a = if q then Some a else None

begun_none : (q : Bool) (x : Bool) (a : Arbitration) → begins_if (q && false && x) a ≡ None
begun_none true x a = refl
begun_none false x a = refl

none_arbitrates : (a : Option Arbitration) (free : ℕ) (c : Change) (row : Row) → c.after.bsy ≡ false
    → c.after.sel ≡ false → c.after.rst ≡ false → arbitration_after a free c row ≡ None
none_arbitrates None free c row b e r =
    ap (λ (q : Bool). begins_if (is_free c.before && q && not c.after.sel) (record { free = free; first = row.time })) b
    ∙ begun_none (is_free c.before) (not c.after.sel) (record { free = free; first = row.time })
none_arbitrates (Some a) free c row b e r = λ i. if e i || not (b i || e i || r i) then None else Some a

abbrev call_if : Bool → Call → Option Call → Option Call
call_if q c otherwise = if q then Some c else otherwise

no_rise : (q : Bool) → rises q false ≡ false
no_rise true = refl
no_rise false = refl

frees_less : (f g v w : ℕ) → f + 64 * 0 ≤ g → suc v ≡ w → suc (f + 40 + 0) ≤ g + (40 + w) + 0
frees_less f g v w h e = omega arith

pub free_falls : (s : ScenarioValue) (p : List Row) (t d : ℕ) → AreOfDevices p → d < 8
    → UnderRst s p → connection p ≡ None → FallsQuiet p (row_of_lines t d none)
    → (bus (row_of_lines t d none ∷ p)).rst ≡ false → same_set (drives p d) none ≡ false
    → resets_left (run_state s (row_of_lines t d none ∷ p)) s.resets ≤ resets_left (run_state s p) s.resets
    → suc (measure s (row_of_lines t d none ∷ p)) ≤ measure s p
free_falls s p t d dv lt u apart calm off some less =
    subst (λ (m : ℕ). suc m ≤ measure s p) (sym after)
    (subst (λ (m : ℕ). suc (future_left s j + 40 + 0) ≤ m) (sym before)
    (frees_less (future_left s j) (future_left s k) (drivers j) (drivers k) future (lets_go s p t d dv lt some)))
  where
    row : Row
    row = row_of_lines t d none

    q : List Row
    q = row ∷ p

    j : RunState
    j = run_state s q

    k : RunState
    k = run_state s p

    reading : RowReading
    reading = row_reading k.story.bus_state row

    change : reading.change ≡ change_of p row
    change = change_plain s row p dv lt

    bsy : (bus q).bsy ≡ false
    bsy = bus_off (λ (l : LineSet). l.bsy) (λ _ _. refl) refl q calm.no_bsy

    alone : connection q ≡ None
    alone = bsy_stands q bsy

    pj : IsPlain s q j
    pj = run_state_plain s q (lt, dv)

    pk : IsPlain s p k
    pk = run_state_plain s p dv

    sent : j.story.sent ≡ k.story.sent
    sent =
        let e : reading.change.after.rst ≡ false = ap (λ (c : Change). c.after.rst) change ∙ off in
        let next : reading.next ≡ None = (λ i. connection_after (pk.connection i) (pk.call i) (change i) row) ∙ alone in
        let shown = nothing_shown s k.story reading row e u.link in
        let by = on_free s k.story reading row e (pk.connection ∙ apart) next in
        let entry : is_arbitration_entry k.story reading ≡ false = ap
        (λ (x : Bool). x && not reading.change.before.sel && is_none k.story.bus_state.connection)
        (no_rise reading.change.own.bsy) in
        let sel : falls reading.change.before.sel reading.change.after.sel ≡ false =
        ap (λ (c : Change). falls c.before.sel c.after.sel) change ∙ ap (λ (x : Bool). falls x (bus q).sel) calm.sel in
        (λ i. (story_after_events s (by i) (shown i)).sent) ∙ (λ i. (if entry i then story_with_aim s k.story row
        else if sel i then story_after_calling s k.story k.story.bus_state.call else k.story).sent)

    future : future_left s j + 64 * 0 ≤ future_left s k
    future = future_falls s j k 0 (record {
      sent = lowers_same k.story.sent j.story.sent sent;
      «open» =
          λ n c at z. wrong (sym z ∙ ap (λ (b : Sent). is_open b n) sent ∙ closed_under_reset s p dv u.reset n c at);
      resets = no_more_than _ _ less;
      faults = refl;
    })

    before : measure s p ≡ future_left s k + (40 + drivers k) + 0
    before = shape_reset s k (is_struck_phase s p) (is_refusing s p) (ap (λ (l : LineSet). l.rst) pk.bus ∙ u.reset)

    after : measure s q ≡ future_left s j + 40 + 0
    after = shape_free s j (is_struck_phase s q) (is_refusing s q) (ap (λ (l : LineSet). l.rst) pj.bus ∙ off)
        (pj.connection ∙ alone) (pj.call ∙ ap (λ (x : Bool). if not x then None else call_if (rises (bus p).sel x)
        (record { caller = d; at = t; calling = None }) (call_goes_on (call p) (change_of p row) row)) calm.no_sel)
        (pj.arbitration ∙ none_arbitrates (arbitration p) (free_since p) (change_of p row) row bsy calm.no_sel off)

-- ---- any row that raises RST, or stands under it

pub reset_row_falls : (s : ScenarioValue) (p : List Row) (row : Row) → AreOfDevices p → row.dev < 8
    → (drives p row.dev).rst ≡ false → (x : Due) → x.time ≡ row.time → x.kind ≡ row.kind
    → reset_due s p row.dev ≡ Some x → suc (measure s (row ∷ p)) ≤ measure s p
reset_row_falls s p row dv lt off x time kind e =
    let z = own_reset_is s p row.dev x e in
    let same : row ≡ row_of_lines row.time row.dev only_rst = row_is row only_rst (sym kind ∙ z.kind_is) in
    subst (λ (r : Row). suc (measure s (r ∷ p)) ≤ measure s p) (sym same)
    (raise_falls s p row.time row.dev dv lt off (z.time_is ∙ ap (λ (m : ℕ). Some m) time))

-- Under RST each row lowers the measure.
pub under_reset_falls : (s : ScenarioValue) (p : List Row) (row : Row) → AreOfDevices p → BusStage s p
    → broken_rule p row ≡ None → (bus p).rst ≡ true → IsLeast (due s p) 8 row → suc (measure s (row ∷ p)) ≤ measure s p
under_reset_falls s p row dv here obeys on m = go (drives p row.dev).rst refl (u.each row.dev lt)
  where
    lt : row.dev < 8
    lt = m.inside

    u : UnderRst s p
    u = under_rst s p here on

    x : Due
    x = record { time = row.time; kind = row.kind }

    Goal : Row → Type 0
    Goal r = suc (measure s (r ∷ p)) ≤ measure s p

    let_go : (drives p row.dev).rst ≡ true → HoldsReset p row.dev → Goal row
    let_go held h =
        let l = due_there s p row.dev x m.is_due in
        let z = is_at ((own_of p row.dev).rst + 25000 + l.latency) none x
        (sym (due_holding s p row.dev l.latency dv lt l.latency_is held) ∙ m.is_due) in
        let e : row ≡ row_of_lines row.time row.dev none = row_is row none z.kind_is in
        let wait : (own_of p row.dev).rst + 25000 ≤ row.time = let w = z.time_is in omega arith in
        let less = resets_less s p row.time row.dev none s.resets dv lt
        (release_awaits s p row.time row.dev held wait) in
        let some : same_set (drives p row.dev) none ≡ false = ap (λ (y : LineSet). same_set y none) h.drive in
        subst Goal (sym e) (by (bus (row_of_lines row.time row.dev none ∷ p)).rst refl e less some)
      where
        by : (r : Bool) → (bus (row_of_lines row.time row.dev none ∷ p)).rst ≡ r
            → row ≡ row_of_lines row.time row.dev none
            → resets_left (run_state s (row_of_lines row.time row.dev none ∷ p)) s.resets
            ≤ resets_left (run_state s p) s.resets
            → same_set (drives p row.dev) none ≡ false → Goal (row_of_lines row.time row.dev none)
        by true f e less some = lowers_drivers s p row.time row.dev dv lt on f some (no_more_than _ _ less)
        by false f e less some = free_falls s p row.time row.dev dv lt u (ends_apart s p
            (row_of_lines row.time row.dev none) lt (subst (λ (r : Row). broken_rule p r ≡ None) e obeys) u f)
            (falls_quiet s p (row_of_lines row.time row.dev none) lt
            (subst (λ (r : Row). broken_rule p r ≡ None) e obeys) here on f) f some less

    clears : (latency : ℕ) → (drives p row.dev).rst ≡ false
        → bus_clear (device_with row.dev latency (drives p row.dev) (own_time p row.dev)) (line_times p).rst ≡ Some x
        → Goal row
    clears latency off e = by (same_set (drives p row.dev) none) refl e
      where
        by : (q : Bool) → same_set (drives p row.dev) none ≡ q
            → (if q then None else due_at ((line_times p).rst + latency) none) ≡ Some x → Goal row
        by true f z = absurd (none-some x z)
        by false f z = subst Goal (sym (row_is row none (is_at ((line_times p).rst + latency) none x z).kind_is))
            (clear_falls s p row.time row.dev dv lt on off f)

    go : (q : Bool) → (drives p row.dev).rst ≡ q → IsUnderRst p row.dev → Goal row
    go false off h =
        let l = due_there s p row.dev x m.is_due in
        let calm = due_calm s p row.dev dv lt off ∙ ap (earlier_due (reset_due s p row.dev))
        (due_in_reset s p row.dev l.latency (drives p row.dev) dv lt l.latency_is u.reset refl) in
        elim (one_of (reset_due s p row.dev)
        (bus_clear (device_with row.dev l.latency (drives p row.dev) (own_time p row.dev)) (line_times p).rst) x
        (sym calm ∙ m.is_due)) [
          | inl r ↦ reset_row_falls s p row dv lt off x refl refl r
          | inr c ↦ clears l.latency off c
        ]
    go true held (quiet n) = wrong (sym held ∙ ap (λ (y : LineSet). y.rst) n)
    go true held (holds h) = let_go held h
    go true held (lingers off) = wrong (sym held ∙ off)

-- While RST is false, a row is of a reset, with which the measure falls, or the first that is due without resets.
pub data FallsOrCalm (s : ScenarioValue) (p : List Row) (row : Row) : Type 0 where
  by_reset : suc (measure s (row ∷ p)) ≤ measure s p → FallsOrCalm s p row
  by_calm : CalmStanding s p → IsLeast (unreset_due s p) 8 row → FallsOrCalm s p row

pub falls_or_calm : (s : ScenarioValue) (p : List Row) (row : Row) → Standing s p → (bus p).rst ≡ false
    → IsLeast (due s p) 8 row → FallsOrCalm s p row
falls_or_calm s p row st calm m =
    let x : Due = record { time = row.time; kind = row.kind } in
    let off = off_at p calm row.dev m.inside in
    elim (one_of (reset_due s p row.dev) (unreset_due s p row.dev) x
    (sym (due_calm s p row.dev st.devices m.inside off) ∙ m.is_due)) [
      | inl r ↦ by_reset (reset_row_falls s p row st.devices m.inside off x refl refl r)
      | inr c ↦ by_calm (always_is s p st calm) (calm_first s p row st calm m c)
    ]
