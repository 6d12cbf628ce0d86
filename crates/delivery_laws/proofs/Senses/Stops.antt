-- Of a prompt trace: the automatic REQUEST SENSE of a command is over exactly where it has ended, or was stopped after
-- the command had ended with CHECK CONDITION; and not both (6.6.1, 6.6.3, 7.6, 7.8).
use Rattle.delivery_laws.proofs
use proofs.Names.{ℕ, suc, zero, ◌≡◌, ◌+◌, ◌<◌, Bool, true, false, not, ◌&&◌, ◌||◌, ◌∙◌, List, [], ◌∷◌, ◌++◌, Option}
use proofs.Names.{Some, None, refl, sym, ap, arith, inl, inr, ne_eqb, and_left, cases_Bool, list_any, if◌then◌else◌}
use proofs.Names.{◌==◌, and_second, eq_self, wrong, wrong', and_false, Event, ProcId, Row, CHECK_CONDITION}
use proofs.Names.{ScenarioValue, Obeys, CmdDef, command_at, same_bool, same_id, ends_checks, RowReading, row_reading}
use proofs.Names.{row_events_by, Sent, command_id, command_item, has_item, is_open, sense_id, sense_item, has_end}
use proofs.Names.{Ending, Story, by_abort, by_reset, by_status, is_aborted, is_sense_stopped, story_after_event}
use proofs.Names.{story_after_events, story_with_end, story_with_end_if, story_with_ends, story_with_over, with_check}
use proofs.Names.{story_by_change, IsPrompt, RunState, run_state, id_is, least_is, AreChecked, events_checked}
use proofs.Names.{change_over, standing_next, whole, AllPay, Indebted, indebted, row_pays, senses_same, Holds, changed}
use proofs.Names.{PaysWell, is_owed, has_status, is_sense_stop, was_sense_stopped}

-- The command ended with CHECK CONDITION.
abbrev is_checked : Sent → ℕ → Bool
is_checked b m = list_any (λ k. k == m) b.checks

-- What is over is told by the history.
pub record IsStopTold (b : Sent) (h : List Event) (m : ℕ) (c : CmdDef) : Type 0 where
  pub over : has_item b.over (sense_item m) ≡ (has_end h (sense_id m) || was_sense_stopped h m c)
  pub apart : was_sense_stopped h m c ≡ true → has_end h (sense_id m) ≡ false
  pub checks : has_status h (command_id m) CHECK_CONDITION ≡ is_checked b m

-- ---- every command that two tests name, in turn

step_checks : (drops stops : CmdDef → Bool) (e : Ending) (m : ℕ) (c : CmdDef) (b : Story)
    → (story_with_end_if drops stops e m c b).sent.checks ≡ b.sent.checks
step_checks drops stops e m c b = go (is_open b.sent m && drops c) (stops c && list_any (λ j. j == m) b.sent.checks)
  where
    go : (r q : Bool) → (if r then story_with_end b (record { command = m; sense = false }) e
        else if q then story_with_over b (sense_item m) else b).sent.checks ≡ b.sent.checks
    go true q = refl
    go false true = refl
    go false false = refl

step_other : (drops stops : CmdDef → Bool) (e : Ending) (m : ℕ) (c : CmdDef) (b : Story) (l : ℕ) → (m == l) ≡ false
    → has_item (story_with_end_if drops stops e m c b).sent.over (sense_item l) ≡ has_item b.sent.over (sense_item l)
step_other drops stops e m c b l h = go (is_open b.sent m && drops c) (stops c && list_any (λ j. j == m) b.sent.checks)
  where
    go : (r q : Bool) → has_item (if r then story_with_end b (record { command = m; sense = false }) e
        else if q then story_with_over b (sense_item m) else b).sent.over (sense_item l)
        ≡ has_item b.sent.over (sense_item l)
    go true q = λ i. h i && false || has_item b.sent.over (sense_item l)
    go false true = λ i. h i && true || has_item b.sent.over (sense_item l)
    go false false = refl

step_closed : (drops stops : CmdDef → Bool) (e : Ending) (m : ℕ) (c : CmdDef) (b : Story) (i : ℕ)
    → has_item b.sent.over (command_item i) ≡ true
    → has_item (story_with_end_if drops stops e m c b).sent.over (command_item i) ≡ true
step_closed drops stops e m c b i h = go (is_open b.sent m && drops c) (stops c && list_any (λ j. j == m) b.sent.checks)
  where
    more : (q : Bool) → (q || has_item b.sent.over (command_item i)) ≡ true
    more true = refl
    more false = h

    go : (r q : Bool) → has_item (if r then story_with_end b (record { command = m; sense = false }) e
        else if q then story_with_over b (sense_item m) else b).sent.over (command_item i) ≡ true
    go true q = more ((m == i) && true)
    go false true = more ((m == i) && false)
    go false false = h

-- Where its own test comes it is over by it, if the command had ended so, and so is open no more.
step_this : (drops stops : CmdDef → Bool) (e : Ending) (m : ℕ) (c : CmdDef) (b : Story)
    → (is_checked b.sent m ≡ true → has_item b.sent.over (command_item m) ≡ true)
    → has_item (story_with_end_if drops stops e m c b).sent.over (sense_item m)
    ≡ (has_item b.sent.over (sense_item m) || (stops c && is_checked b.sent m))
step_this drops stops e m c b closed = go (is_checked b.sent m) refl (stops c)
  where
    neither : (a b : Bool) → b ≡ true → (a && not b) ≡ false
    neither true true z = refl
    neither false true z = refl
    neither a false z = wrong' z

    nothing : (y : Bool) → y ≡ (y || false)
    nothing true = refl
    nothing false = refl

    all : (y : Bool) → true ≡ (y || true)
    all true = refl
    all false = refl

    unstopped : (r : Bool)
        → has_item (if r then story_with_end b (record { command = m; sense = false }) e else b).sent.over
        (sense_item m) ≡ (has_item b.sent.over (sense_item m) || false)
    unstopped true =
        (elim (cases_Bool (m == m)) [ inl f ↦ rw f | inr f ↦ rw f ]) ∙ nothing (has_item b.sent.over (sense_item m))
    unstopped false = nothing (has_item b.sent.over (sense_item m))

    go : (q : Bool) → is_checked b.sent m ≡ q → (t : Bool)
        → has_item (if is_open b.sent m && drops c then story_with_end b (record { command = m; sense = false }) e
        else if t && is_checked b.sent m then story_with_over b (sense_item m) else b).sent.over (sense_item m)
        ≡ (has_item b.sent.over (sense_item m) || (t && is_checked b.sent m))
    go false f t =
        let off : (t && is_checked b.sent m) ≡ false = ap (λ (x : Bool). t && x) f ∙ and_false t in
        (λ i. has_item (if is_open b.sent m && drops c then story_with_end b (record { command = m; sense = false }) e
        else if off i then story_with_over b (sense_item m) else b).sent.over (sense_item m))
        ∙ unstopped (is_open b.sent m && drops c) ∙ (λ i. has_item b.sent.over (sense_item m) || sym off i)
    go true f false = unstopped (is_open b.sent m && drops c)
    go true f true =
        let opens : (is_open b.sent m && drops c) ≡ false = and_left (is_open b.sent m) (drops c)
        (neither (has_item b.sent.sent (command_item m)) (has_item b.sent.over (command_item m)) (closed f)) in
        (λ i. has_item (if opens i then story_with_end b (record { command = m; sense = false }) e
        else if f i then story_with_over b (sense_item m) else b).sent.over (sense_item m))
        ∙ (λ i. eq_self m i && true || has_item b.sent.over (sense_item m)) ∙ all (has_item b.sent.over (sense_item m))
        ∙ (λ i. has_item b.sent.over (sense_item m) || sym f i)

earlier : (drops stops : CmdDef → Bool) (e : Ending) (commands : List CmdDef) (b : Story) (m i : ℕ) → i < m
    → has_item (story_with_ends drops stops e m commands b).sent.over (sense_item i)
    ≡ has_item b.sent.over (sense_item i)
earlier drops stops e [] b m i h = refl
earlier drops stops e (c ∷ commands) b m i h =
    earlier drops stops e commands (story_with_end_if drops stops e m c b) (m + 1) i (omega (arith, h))
    ∙ step_other drops stops e m c b i (ne_eqb m i (λ z. omega (arith, z, h)))

ends_from :
    (drops stops : CmdDef → Bool) (e : Ending) (m : ℕ) (commands : List CmdDef) (b : Story) (w u : ℕ) (d : CmdDef)
    → u ≡ w + m → command_at commands (suc w) ≡ Some d
    → (is_checked b.sent u ≡ true → has_item b.sent.over (command_item u) ≡ true)
    → has_item (story_with_ends drops stops e m commands b).sent.over (sense_item u)
    ≡ (has_item b.sent.over (sense_item u) || (stops d && is_checked b.sent u))
ends_from drops stops e m [] b w u d same at closed = absurd (never at)
  where
    never : (let o : Option CmdDef = None in o) ≡ Some d → ⊥
    never z = cc
ends_from drops stops e m (c ∷ commands) b zero u d same at closed =
    let here : m ≡ u = omega (arith, same) in
    let it : c ≡ d = cc in
    earlier drops stops e commands (story_with_end_if drops stops e m c b) (m + 1) u (omega (arith, same))
    ∙ (λ i. has_item (story_with_end_if drops stops e (here i) c b).sent.over (sense_item u))
    ∙ step_this drops stops e u c b closed
    ∙ (λ i. has_item b.sent.over (sense_item u) || (stops (it i) && is_checked b.sent u))
ends_from drops stops e m (c ∷ commands) b (suc w) u d same at closed =
    let other : (m == u) ≡ false = ne_eqb m u (λ z. omega (arith, z, same)) in
    let x : Story = story_with_end_if drops stops e m c b in
    ends_from drops stops e (m + 1) commands x w u d (omega (arith, same)) at (λ z. step_closed drops stops e m c b u
    (closed (ap (λ (l : List ℕ). list_any (λ y. y == u) l) (sym (step_checks drops stops e m c b)) ∙ z)))
    ∙ (λ i. step_other drops stops e m c b u other i
    || (stops d && list_any (λ y. y == u) (step_checks drops stops e m c b i)))

no_command : (commands : List CmdDef) (d : CmdDef) → command_at commands 0 ≡ Some d → ⊥
no_command [] d e = absurd cc
no_command (x ∷ commands) d e = absurd cc

ends_at : (drops stops : CmdDef → Bool) (e : Ending) (commands : List CmdDef) (b : Story) (m : ℕ) (d : CmdDef)
    → command_at commands m ≡ Some d → AreChecked b.sent
    → has_item (story_with_ends drops stops e 1 commands b).sent.over (sense_item m)
    ≡ (has_item b.sent.over (sense_item m) || (stops d && is_checked b.sent m))
ends_at drops stops e commands b zero d at closed = absurd (no_command commands d at)
ends_at drops stops e commands b (suc i) d at closed =
    ends_from drops stops e 1 commands b i (suc i) d (omega arith) at (closed (suc i))

-- ---- an event

stops_more : (b : Story) (h : List Event) (m : ℕ) (c : CmdDef) (e : Event) (x : Sent) (t : Bool)
    → is_sense_stop c e ≡ t → has_end (e ∷ h) (sense_id m) ≡ has_end h (sense_id m)
    → has_status (e ∷ h) (command_id m) CHECK_CONDITION ≡ has_status h (command_id m) CHECK_CONDITION
    → has_item x.over (sense_item m) ≡ (has_item b.sent.over (sense_item m) || (t && is_checked b.sent m))
    → x.checks ≡ b.sent.checks → IsStopTold b.sent h m c → IsStopTold x (e ∷ h) m c
stops_more b h m c e x t stop ended status over checks w = record {
  over = over ∙ (λ i. w.over i || (t && sym w.checks i))
      ∙ alike (has_end h (sense_id m)) (was_sense_stopped h m c) t (has_status h (command_id m) CHECK_CONDITION)
      ∙ (λ i. sym ended i
      || ((sym stop i && (has_status h (command_id m) CHECK_CONDITION && not (has_end h (sense_id m))))
      || was_sense_stopped h m c));
  apart = λ z. ended ∙ alone (is_sense_stop c e) (has_status h (command_id m) CHECK_CONDITION) (has_end h (sense_id m))
      (was_sense_stopped h m c) w.apart z;
  checks = status ∙ w.checks ∙ ap (λ (l : List ℕ). list_any (λ k. k == m) l) (sym checks);
}
  where
    alike : (a b t q : Bool) → ((a || b) || (t && q)) ≡ (a || ((t && (q && not a)) || b))
    alike true b t q = refl
    alike false true true true = refl
    alike false true true false = refl
    alike false true false q = refl
    alike false false true true = refl
    alike false false true false = refl
    alike false false false q = refl

    alone : (t q a b : Bool) → (b ≡ true → a ≡ false) → ((t && (q && not a)) || b) ≡ true → a ≡ false
    alone t q false b f z = refl
    alone t q true true f z = f refl
    alone true true true false f z = wrong' z
    alone _ _ true false f z = wrong' z

any_last : (xs : List ℕ) (m i : ℕ) → list_any (λ k. k == i) (xs ++ m ∷ []) ≡ ((m == i) || list_any (λ k. k == i) xs)
any_last [] m i = refl
any_last (x ∷ xs) m i =
    go (x == i) (m == i) (list_any (λ k. k == i) (xs ++ m ∷ [])) (list_any (λ k. k == i) xs) (any_last xs m i)
  where
    go : (b q r y : Bool) → r ≡ (q || y) → (b || r) ≡ (q || (b || y))
    go true true r y e = refl
    go true false r y e = refl
    go false q r y e = e

check_over : (b : Story) (id : ProcId) (status m : ℕ)
    → has_item (with_check (story_with_end b id (by_status status)) id status).sent.over (sense_item m)
    ≡ (same_id id (sense_id m) || has_item b.sent.over (sense_item m))
check_over b id status m = elim (cases_Bool (not id.sense && status == CHECK_CONDITION)) [ inl e ↦ rw e | inr e ↦ rw e ]
  where
    x : Story
    x = story_with_end b id (by_status status)

check_checks : (b : Story) (id : ProcId) (status m : ℕ)
    → is_checked (with_check (story_with_end b id (by_status status)) id status).sent m
    ≡ ((same_id id (command_id m) && status == CHECK_CONDITION) || is_checked b.sent m)
check_checks b id status m = go id.sense (status == CHECK_CONDITION)
  where
    x : Story
    x = story_with_end b id (by_status status)

    go : (q r : Bool) → is_checked
        (if not q && r then record x { sent = record x.sent { checks = x.sent.checks ++ id.command ∷ [] } } else x).sent
        m ≡ (((id.command == m && same_bool q false) && r) || is_checked b.sent m)
    go true r = elim (cases_Bool (id.command == m)) [ inl e ↦ rw e | inr e ↦ rw e ]
    go false false = off (id.command == m)
      where
        off : (c : Bool) → is_checked b.sent m ≡ (((c && true) && false) || is_checked b.sent m)
        off true = refl
        off false = refl
    go false true = any_last b.sent.checks id.command m ∙ on (id.command == m)
      where
        on : (c : Bool) → (c || is_checked b.sent m) ≡ (((c && true) && true) || is_checked b.sent m)
        on true = refl
        on false = refl

no_more : (a : Bool) → a ≡ (a || false)
no_more true = refl
no_more false = refl

stop_event : (s : ScenarioValue) (b : Story) (h : List Event) (m : ℕ) (c : CmdDef) (e : Event)
    → command_at s.commands m ≡ Some c → AreChecked b.sent → PaysWell s b.sent e → IsStopTold b.sent h m c
    → IsStopTold (story_after_event s b e).sent (e ∷ h) m c
stop_event s b h m c (Event.End id status) at closed pays w = record {
  over = check_over b id status m ∙ (λ i. same_id id (sense_id m) || w.over i)
      ∙ alike (same_id id (sense_id m)) (has_end h (sense_id m)) (was_sense_stopped h m c);
  apart = λ z. (λ i. fresh (same_id id (sense_id m)) refl z i || w.apart z i);
  checks =
      (λ i. (same_id id (command_id m) && status == CHECK_CONDITION) || w.checks i) ∙ sym (check_checks b id status m);
}
  where
    alike : (x a b : Bool) → (x || (a || b)) ≡ ((x || a) || b)
    alike true a b = refl
    alike false a b = refl

    -- one that is over does not end
    fresh : (q : Bool) → same_id id (sense_id m) ≡ q → was_sense_stopped h m c ≡ true → same_id id (sense_id m) ≡ false
    fresh false e z = e
    fresh true e z =
        let is : id ≡ sense_id m = id_is id (sense_id m) e in
        let owed : is_owed b.sent id.command ≡ true = (pays.0 (ap (λ (x : ProcId). x.sense) is)).1 in
        let opens : not (has_item b.sent.over (sense_item m)) ≡ true =
        ap (λ (x : ProcId). not (has_item b.sent.over (sense_item x.command))) (sym is) ∙ and_second
        (list_any (λ k. k == id.command) b.sent.checks) (not (has_item b.sent.over (sense_item id.command))) owed in
        wrong' (sym
        (ap (λ (x : Bool). not x) (w.over ∙ (λ i. has_end h (sense_id m) || z i) ∙ or_true (has_end h (sense_id m))))
        ∙ opens)
      where
        or_true : (a : Bool) → (a || true) ≡ true
        or_true true = refl
        or_true false = refl
stop_event s b h m c (Event.Lost id) at closed pays w = record {
  over = (λ i. (id.command == m && same_bool (pays i) true) || has_item b.sent.over (sense_item m))
      ∙ off (id.command == m) ∙ w.over;
  apart = w.apart;
  checks = w.checks;
}
  where
    off : (q : Bool) → ((q && false) || has_item b.sent.over (sense_item m)) ≡ has_item b.sent.over (sense_item m)
    off true = refl
    off false = refl
stop_event s b h m c (Event.Aborted host target unit what) at closed pays w = stops_more b h m c
    (Event.Aborted host target unit what) (story_after_event s b (Event.Aborted host target unit what)).sent
    (is_sense_stopped host target unit what c) refl refl refl (ends_at (is_aborted host target unit what)
    (is_sense_stopped host target unit what) by_abort s.commands b m c at closed)
    (ends_checks (is_aborted host target unit what) (is_sense_stopped host target unit what) by_abort 1 s.commands b) w
stop_event s b h m c (Event.Reset dev) at closed pays w = stops_more b h m c (Event.Reset dev) (story_after_event s b
    (Event.Reset dev)).sent true refl refl refl (ends_at (λ c. true) (λ c. true) by_reset s.commands b m c at closed)
    (ends_checks (λ c. true) (λ c. true) by_reset 1 s.commands b) w
stop_event s b h m c _ at closed pays w = record { over = w.over; apart = w.apart; checks = w.checks }

stop_events : (s : ScenarioValue) (b : Story) (h : List Event) (m : ℕ) (c : CmdDef) (shown : List Event)
    → command_at s.commands m ≡ Some c → AreChecked b.sent → AllPay s b shown → IsStopTold b.sent h m c
    → IsStopTold (story_after_events s b shown).sent (shown ++ h) m c
stop_events s b h m c [] at closed pays w = w
stop_events s b h m c (e ∷ shown) at closed pays w = stop_event s (story_after_events s b shown) (shown ++ h) m c e at
    (events_checked s b shown closed) pays.0 (stop_events s b h m c shown at closed pays.1 w)

-- ---- all rows of a prompt trace

stops_next : (s : ScenarioValue) (p : List Row) (row : Row) (i : ℕ) (c : CmdDef) → Obeys s → IsPrompt s (row ∷ p)
    → command_at s.commands i ≡ Some c → IsStopTold (run_state s p).story.sent (run_state s p).story.history i c
    → IsStopTold (run_state s (row ∷ p)).story.sent (run_state s (row ∷ p)).story.history i c
stops_next s p row i c o prompt at was = stop_events s x k.story.history i c shown at closed pays (record {
  over = senses_same s k.story d row i ∙ was.over;
  apart = was.apart;
  checks = was.checks ∙ ap (λ (l : List ℕ). list_any (λ y. y == i) l) (sym grown.checks);
})
  where
    k : RunState
    k = run_state s p

    d : RowReading
    d = row_reading k.story.bus_state row

    x : Story
    x = story_by_change s k.story d row

    shown : List Event
    shown = row_events_by s k.story d row

    grown : Holds k.story.sent x.sent
    grown = changed s k.story d row

    due : Indebted s p
    due = indebted s p o prompt.0

    closed : AreChecked x.sent
    closed = λ m z. change_over s k.story d row (command_item m)
        (due.whole.facts.items.items.checked m (ap (λ (l : List ℕ). list_any (λ y. y == m) l) (sym grown.checks) ∙ z))

    pays : AllPay s x shown
    pays = row_pays s p row (least_is s p row prompt.1).inside due.whole (whole s (row ∷ p) o prompt)
        (standing_next s p row o prompt due.whole) due.books

pub all_stops_told : (s : ScenarioValue) (p : List Row) (m : ℕ) (c : CmdDef) → Obeys s → IsPrompt s p
    → command_at s.commands m ≡ Some c → IsStopTold (run_state s p).story.sent (run_state s p).story.history m c
all_stops_told s [] m c o prompt at = record { over = refl; apart = λ z. refl; checks = refl }
all_stops_told s (row ∷ p) m c o prompt at = stops_next s p row m c o prompt at (all_stops_told s p m c o prompt.0 at)
