-- Which items an event ends: those that it names, those that an abort drops, and with RST all; what is over stays so.
use Rattle.story_laws.proofs
use proofs.Names.{inl, inr, ℕ, zero, suc, ◌≡◌, ◌⊎◌, ◌+◌, Bool, true, false, not, ◌&&◌, ◌||◌, ◌==◌, ◌∙◌, List, [], ◌∷◌}
use proofs.Names.{◌++◌, Some, refl, sym, ap, arith, or_from, not-true, eqb-true, same_Some, list_any, if◌then◌else◌}
use proofs.Names.{wrong, and_first, and_second, and_true, AbortKind, Event, ProcId, CHECK_CONDITION, ScenarioValue}
use proofs.Names.{CmdDef, none_at, id_turned, Process, process_of, process_if, process_by, command_at, same_id}
use proofs.Names.{same_bool, event_sent, ends_checks, Item, process, same_item, has_item, command_item, sense_item}
use proofs.Names.{Sent, is_open, is_open_sense, Story, Ending, by_status, by_abort, by_reset, is_aborted}
use proofs.Names.{is_sense_stopped, story_with_over, story_with_end, with_check, story_with_ends, story_after_event}
use proofs.Names.{story_after_events, none_some, is_dropped, stays_queued, NoClash, AreChecked, IsQueued}
use proofs.Items.{Open.{fewer_clash}, Sent.{more_has, own_has}}

-- ---- what is over stays over

pub record Grows (a b : Sent) : Type 0 where
  pub sent : b.sent ≡ a.sent
  pub over : (i : Item) → has_item a.over i ≡ true → has_item b.over i ≡ true
  pub checks : (m : ℕ) → list_any (λ k. k == m) a.checks ≡ true → list_any (λ k. k == m) b.checks ≡ true

pub grows_same : (a b : Sent) → b ≡ a → Grows a b
grows_same a b e = record {
  sent = ap (λ (x : Sent). x.sent) e;
  over = λ i z. ap (λ (x : Sent). has_item x.over i) e ∙ z;
  checks = λ n z. ap (λ (x : Sent). list_any (λ k. k == n) x.checks) e ∙ z;
}

pub grows_on : (a b c : Sent) → Grows a b → Grows b c → Grows a c
grows_on a b c h g =
    record { sent = g.sent ∙ h.sent; over = λ i z. g.over i (h.over i z); checks = λ n z. g.checks n (h.checks n z) }

over_grows : (a : Sent) (item : Item) → Grows a (record a { over = item ∷ a.over })
over_grows a item = record { sent = refl; over = λ i z. more_has item i a.over z; checks = λ n z. z }

pub later : (m : ℕ) (checks more : List ℕ) → list_any (λ k. k == m) checks ≡ true
    → list_any (λ k. k == m) (checks ++ more) ≡ true
later m [] more e = wrong (sym e)
later m (c ∷ checks) more e = go (c == m) e (λ z. later m checks more z)
  where
    go : (q : Bool) → (q || list_any (λ k. k == m) checks) ≡ true
        → (list_any (λ k. k == m) checks ≡ true → list_any (λ k. k == m) (checks ++ more) ≡ true)
        → (q || list_any (λ k. k == m) (checks ++ more)) ≡ true
    go true z rest = refl
    go false z rest = rest z

check_grows : (b : Story) (id : ProcId) (status : ℕ) → Grows b.sent (with_check b id status).sent
check_grows b id status = go (not id.sense && status == CHECK_CONDITION)
  where
    go : (q : Bool) → Grows b.sent
        (if q then record b { sent = record b.sent { checks = b.sent.checks ++ id.command ∷ [] } } else b).sent
    go true = record { sent = refl; over = λ i z. z; checks = λ n z. later n b.sent.checks (id.command ∷ []) z }
    go false = grows_same b.sent b.sent refl

one_end : (q r : Bool) (m : ℕ) (e : Ending) (b : Story)
    → Grows b.sent (if q then story_with_end b (record { command = m; sense = false }) e
    else if r then story_with_over b (sense_item m) else b).sent
one_end true r m e b = over_grows b.sent (command_item m)
one_end false true m e b = over_grows b.sent (sense_item m)
one_end false false m e b = grows_same b.sent b.sent refl

ends_grow : (drops stops : CmdDef → Bool) (e : Ending) (m : ℕ) (commands : List CmdDef) (b : Story)
    → Grows b.sent (story_with_ends drops stops e m commands b).sent
ends_grow drops stops e m [] b = grows_same b.sent b.sent refl
ends_grow drops stops e m (c ∷ commands) b =
    let next : Story = if is_open b.sent m && drops c then story_with_end b (record { command = m; sense = false }) e
    else if stops c && list_any (λ k. k == m) b.sent.checks then story_with_over b (sense_item m) else b in
    grows_on b.sent next.sent (story_with_ends drops stops e (m + 1) commands next).sent
    (one_end (is_open b.sent m && drops c) (stops c && list_any (λ k. k == m) b.sent.checks) m e b)
    (ends_grow drops stops e (m + 1) commands next)

event_grows : (s : ScenarioValue) (b : Story) (event : Event) → Grows b.sent (story_after_event s b event).sent
event_grows s b (Event.End id status) = grows_on b.sent (story_with_end b id (by_status status)).sent
    (story_after_event s b (Event.End id status)).sent (over_grows b.sent (process id))
    (check_grows (story_with_end b id (by_status status)) id status)
event_grows s b (Event.Lost id) = over_grows b.sent (process id)
event_grows s b (Event.Aborted host target unit what) =
    ends_grow (is_aborted host target unit what) (is_sense_stopped host target unit what) by_abort 1 s.commands b
event_grows s b (Event.Reset dev) = ends_grow (λ c. true) (λ c. true) by_reset 1 s.commands b
event_grows s b _ = grows_same b.sent b.sent refl

pub events_grow : (s : ScenarioValue) (b : Story) (shown : List Event)
    → Grows b.sent (story_after_events s b shown).sent
events_grow s b [] = grows_same b.sent b.sent refl
events_grow s b (event ∷ shown) = grows_on b.sent (story_after_events s b shown).sent
    (story_after_events s b (event ∷ shown)).sent (events_grow s b shown)
    (event_grows s (story_after_events s b shown) event)

pub not_grown : (q r : Bool) → (q ≡ true → r ≡ true) → not r ≡ true → not q ≡ true
not_grown true r f e = wrong (sym e ∙ ap not (f refl))
not_grown false r f e = refl

fewer_open : (a b : Sent) → Grows a b → (m : ℕ) → is_open b m ≡ true → is_open a m ≡ true
fewer_open a b g m e =
    let sent = and_first (has_item b.sent (command_item m)) (not (has_item b.over (command_item m))) e in
    let over = and_second (has_item b.sent (command_item m)) (not (has_item b.over (command_item m))) e in
    λ i. (ap (λ (x : List Item). has_item x (command_item m)) (sym g.sent) ∙ sent) i
    && not_grown (has_item a.over (command_item m)) (has_item b.over (command_item m)) (g.over (command_item m)) over i

pub fewer_senses : (a b : Sent) → Grows a b → (m : ℕ) → is_open_sense b m ≡ true → is_open_sense a m ≡ true
fewer_senses a b g m e =
    let sent = and_first (has_item b.sent (sense_item m)) (not (has_item b.over (sense_item m))) e in
    let over = and_second (has_item b.sent (sense_item m)) (not (has_item b.over (sense_item m))) e in
    λ i. (ap (λ (x : List Item). has_item x (sense_item m)) (sym g.sent) ∙ sent) i
    && not_grown (has_item a.over (sense_item m)) (has_item b.over (sense_item m)) (g.over (sense_item m)) over i

pub clash_grows : (s : ScenarioValue) (a b : Sent) → Grows a b → NoClash s a → NoClash s b
clash_grows s a b g h = fewer_clash s a b (λ n e. fewer_open a b g n e) h

-- ---- commands that ended with CHECK CONDITION are over

same_checks : (a b : Sent) → b.checks ≡ a.checks
    → ((i : Item) → has_item a.over i ≡ true → has_item b.over i ≡ true) → AreChecked a → AreChecked b
same_checks a b e more h n z = more (command_item n) (h n (ap (λ (x : List ℕ). list_any (λ k. k == n) x) (sym e) ∙ z))

own_command : (id : ProcId) → id.sense ≡ false → process id ≡ command_item id.command
own_command id e = λ i. process (record { command = id.command; sense = e i })

pub in_append : (i m : ℕ) (checks : List ℕ) → list_any (λ k. k == i) (checks ++ m ∷ []) ≡ true
    → (list_any (λ k. k == i) checks ≡ true) ⊎ (m ≡ i)
in_append i m [] e = go (m == i) refl e
  where
    go : (q : Bool) → (m == i) ≡ q → (q || false) ≡ true → (list_any (λ k. k == i) [] ≡ true) ⊎ (m ≡ i)
    go true z f = inr (eqb-true m i z)
    go false z f = wrong (sym f)
in_append i m (c ∷ checks) e = go (c == i) e (λ z. in_append i m checks z)
  where
    go : (q : Bool) → (q || list_any (λ k. k == i) (checks ++ m ∷ [])) ≡ true
        → (list_any (λ k. k == i) (checks ++ m ∷ []) ≡ true → (list_any (λ k. k == i) checks ≡ true) ⊎ (m ≡ i))
        → ((q || list_any (λ k. k == i) checks) ≡ true) ⊎ (m ≡ i)
    go true z rest = inl refl
    go false z rest = rest z

ended_checked : (b : Story) (id : ProcId) (status : ℕ) (e : Ending) → AreChecked b.sent
    → AreChecked (with_check (story_with_end b id e) id status).sent
ended_checked b id status e h = go id.sense refl (status == CHECK_CONDITION)
  where
    ended : Sent
    ended = (story_with_end b id e).sent

    same : AreChecked ended
    same = same_checks b.sent ended refl (λ i z. more_has (process id) i b.sent.over z) h

    go : (q : Bool) → id.sense ≡ q → (r : Bool) → AreChecked (if not q && r then record (story_with_end b id e) {
      sent = record ended { checks = ended.checks ++ id.command ∷ [] };
    } else story_with_end b id e).sent
    go true z r = same
    go false z false = same
    go false z true = λ n f. elim (in_append n id.command b.sent.checks f) [
      | inl x ↦ same n x
      | inr x ↦
          ap (has_item ended.over) (ap command_item (sym x) ∙ sym (own_command id z)) ∙ own_has (process id) b.sent.over
    ]

event_checked : (s : ScenarioValue) (b : Story) (event : Event) → AreChecked b.sent
    → AreChecked (story_after_event s b event).sent
event_checked s b (Event.End id status) h = ended_checked b id status (by_status status) h
event_checked s b (Event.Lost id) h = same_checks b.sent (story_after_event s b (Event.Lost id)).sent refl
    (λ i z. more_has (process id) i b.sent.over z) h
event_checked s b (Event.Aborted host target unit what) h = same_checks b.sent
    (story_after_event s b (Event.Aborted host target unit what)).sent
    (ends_checks (is_aborted host target unit what) (is_sense_stopped host target unit what) by_abort 1 s.commands b)
    (ends_grow (is_aborted host target unit what) (is_sense_stopped host target unit what) by_abort 1 s.commands b).over
    h
event_checked s b (Event.Reset dev) h = same_checks b.sent (story_after_event s b (Event.Reset dev)).sent
    (ends_checks (λ c. true) (λ c. true) by_reset 1 s.commands b)
    (ends_grow (λ c. true) (λ c. true) by_reset 1 s.commands b).over h
event_checked s b _ h = h

pub events_checked : (s : ScenarioValue) (b : Story) (shown : List Event) → AreChecked b.sent
    → AreChecked (story_after_events s b shown).sent
events_checked s b [] h = h
events_checked s b (event ∷ shown) h = event_checked s (story_after_events s b shown) event (events_checked s b shown h)

-- ---- what stops every automatic REQUEST SENSE of them, as RST does

closed_by : (a : Bool) → (a && not true) ≡ false
closed_by true = refl
closed_by false = refl

-- Of a command that was checked, and that the test stops.
ends_stop : (drops stops : CmdDef → Bool) (e : Ending) (l w : ℕ) (commands : List CmdDef) (b : Story) (c : CmdDef)
    → command_at commands (suc w) ≡ Some c → stops c ≡ true
    → has_item b.sent.over (command_item (suc (l + w))) ≡ true → list_any (λ m. m == suc (l + w)) b.sent.checks ≡ true
    → has_item (story_with_ends drops stops e (suc l) commands b).sent.over (sense_item (suc (l + w))) ≡ true
ends_stop drops stops e l w [] b c at stop over checked = absurd (none_some c at)
ends_stop drops stops e l zero (x ∷ commands) b c at stop over checked =
    let same : suc (l + 0) ≡ suc l = omega arith in
    let stopped : stops x ≡ true = ap stops (same_Some x c at) ∙ stop in
    let closed : is_open b.sent (suc l) ≡ false = (λ i. has_item b.sent.sent (command_item (suc l))
    && not ((ap (λ (u : ℕ). has_item b.sent.over (command_item u)) (sym same) ∙ over) i))
    ∙ closed_by (has_item b.sent.sent (command_item (suc l))) in
    let shut : (is_open b.sent (suc l) && drops x) ≡ false = ap (λ (q : Bool). q && drops x) closed in
    let next : Story =
    if is_open b.sent (suc l) && drops x then story_with_end b (record { command = suc l; sense = false }) e
    else if stops x && list_any (λ m. m == suc l) b.sent.checks then story_with_over b (sense_item (suc l)) else b in
    let is : next ≡ story_with_over b (sense_item (suc l)) =
    λ i. if shut i then story_with_end b (record { command = suc l; sense = false }) e
    else if stopped i && (ap (λ (u : ℕ). list_any (λ m. m == u) b.sent.checks) (sym same) ∙ checked) i
    then story_with_over b (sense_item (suc l)) else b in
    ap (λ (u : ℕ). has_item (story_with_ends drops stops e (suc l) (x ∷ commands) b).sent.over (sense_item u)) same
    ∙ (ends_grow drops stops e (suc l + 1) commands next).over (sense_item (suc l))
    (ap (λ (y : Story). has_item y.sent.over (sense_item (suc l))) is ∙ own_has (sense_item (suc l)) b.sent.over)
ends_stop drops stops e l (suc w) (x ∷ commands) b c at stop over checked =
    let next : Story =
    if is_open b.sent (suc l) && drops x then story_with_end b (record { command = suc l; sense = false }) e
    else if stops x && list_any (λ m. m == suc l) b.sent.checks then story_with_over b (sense_item (suc l)) else b in
    let g : Grows b.sent next.sent = one_end (is_open b.sent (suc l) && drops x)
    (stops x && list_any (λ m. m == suc l) b.sent.checks) (suc l) e b in
    let moved : suc (l + suc w) ≡ suc (suc l + w) = omega arith in
    let one_more : suc (suc l) ≡ suc l + 1 = omega arith in
    (λ i. has_item (story_with_ends drops stops e (sym one_more i) commands next).sent.over (sense_item (moved i)))
    ∙ ends_stop drops stops e (suc l) w commands next c at stop
    (g.over _ (ap (λ (u : ℕ). has_item b.sent.over (command_item u)) (sym moved) ∙ over))
    (g.checks _ (ap (λ (u : ℕ). list_any (λ m. m == u) b.sent.checks) (sym moved) ∙ checked))

pub ends_senses : (s : ScenarioValue) (drops stops : CmdDef → Bool) (e : Ending) (b : Story) (i : ℕ) (c : CmdDef)
    → command_at s.commands i ≡ Some c → stops c ≡ true
    → AreChecked b.sent → list_any (λ k. k == i) b.sent.checks ≡ true
    → has_item (story_with_ends drops stops e 1 s.commands b).sent.over (sense_item i) ≡ true
ends_senses s drops stops e b zero c at stop h z = absurd (none_some c (sym (none_at s.commands) ∙ at))
ends_senses s drops stops e b (suc i) c at stop h z =
    let same : suc (0 + i) ≡ suc i = omega arith in
    ap (λ (m : ℕ). has_item (story_with_ends drops stops e 1 s.commands b).sent.over (sense_item m)) (sym same)
    ∙ ends_stop drops stops e 0 i s.commands b c at stop
    (ap (λ (m : ℕ). has_item b.sent.over (command_item m)) same ∙ h (suc i) z)
    (ap (λ (m : ℕ). list_any (λ k. k == m) b.sent.checks) same ∙ z)

pub reset_senses : (s : ScenarioValue) (b : Story) (dev m : ℕ) (c : CmdDef)
    → command_at s.commands m ≡ Some c → AreChecked b.sent → list_any (λ k. k == m) b.sent.checks ≡ true
    → has_item (story_after_event s b (Event.Reset dev)).sent.over (sense_item m) ≡ true
reset_senses s b dev m c at h e = ends_senses s (λ x. true) (λ x. true) by_reset b m c at refl h e

-- ---- what an event leaves open

pub sense_apart : (i m : ℕ) → same_item (sense_item i) (command_item m) ≡ false
sense_apart i m = elim (i == m) as (λ q. (q && same_bool true false) ≡ false) [ true ↦ refl | false ↦ refl ]

-- A command that the test does not drop.
ends_leave : (drops stops : CmdDef → Bool) (e : Ending) (i : ℕ) (all commands : List CmdDef) (b : Story) (m : ℕ)
    → ((l : ℕ) → command_at commands (suc l) ≡ command_at all (suc (i + l)))
    → ((c : CmdDef) → command_at all m ≡ Some c → drops c ≡ false) → has_item b.sent.over (command_item m) ≡ false
    → has_item (story_with_ends drops stops e (suc i) commands b).sent.over (command_item m) ≡ false
ends_leave drops stops e i all [] b m h keep o = o
ends_leave drops stops e i all (c ∷ commands) b m h keep o =
    let next : Story =
    if is_open b.sent (suc i) && drops c then story_with_end b (record { command = suc i; sense = false }) e
    else if stops c && list_any (λ l. l == suc i) b.sent.checks then story_with_over b (sense_item (suc i)) else b in
    ap (λ (w : ℕ). has_item (story_with_ends drops stops e w commands next).sent.over (command_item m)) (sym one_more)
    ∙ ends_leave drops stops e (suc i) all commands next m
    (λ l. h (suc l) ∙ ap (λ (w : ℕ). command_at all (suc w)) (moved l)) keep
    (go (is_open b.sent (suc i) && drops c) refl (stops c && list_any (λ l. l == suc i) b.sent.checks))
  where
    one_more : suc (suc i) ≡ suc i + 1
    one_more = omega arith

    moved : (l : ℕ) → i + suc l ≡ suc i + l
    moved l = omega arith

    same : i + 0 ≡ i
    same = omega arith

    here : command_at all (suc i) ≡ Some c
    here = ap (λ (w : ℕ). command_at all (suc w)) (sym same) ∙ sym (h 0)

    apart : (q : Bool) → (suc i == m) ≡ q → drops c ≡ true → (suc i == m) ≡ false
    apart false z d = z
    apart true z d = wrong (sym d ∙ keep c (ap (command_at all) (sym (eqb-true (suc i) m z)) ∙ here))

    go : (q : Bool) → (is_open b.sent (suc i) && drops c) ≡ q → (r : Bool)
        → has_item (if q then story_with_end b (record { command = suc i; sense = false }) e
        else if r then story_with_over b (sense_item (suc i)) else b).sent.over (command_item m) ≡ false
    go true z r = or_from (same_item (command_item (suc i)) (command_item m)) (has_item b.sent.over (command_item m))
        (and_true (suc i == m) ∙ apart (suc i == m) refl (and_second (is_open b.sent (suc i)) (drops c) z)) o
    go false z true = or_from (same_item (sense_item (suc i)) (command_item m)) (has_item b.sent.over (command_item m))
        (sense_apart (suc i) m) o
    go false z false = o

-- The command of a process that is no automatic REQUEST SENSE is what the scenario says.
dropped_so : (s : ScenarioValue) (i t m : ℕ) (what : AbortKind) (x : Process) → process_of s x.id ≡ Some x
    → x.id.sense ≡ false → (c : CmdDef) → command_at s.commands x.id.command ≡ Some c
    → is_aborted i t m what c ≡ is_dropped i t m what x
dropped_so s i t m what x e f c at = by what ∙ ap (is_dropped i t m what) same
  where
    q : Process
    q = process_by s (record { command = x.id.command; sense = false }) c

    same : q ≡ x
    same = same_Some q x ((λ j. process_if s (record { command = x.id.command; sense = sym f j }) (sym at j)) ∙ e)

    by : (w : AbortKind) → is_aborted i t m w c ≡ is_dropped i t m w q
    by AbortKind.All = refl
    by _ = refl

aborts_leave : (s : ScenarioValue) (b : Story) (i t l : ℕ) (what : AbortKind) (x : Process)
    → IsQueued s b.sent x → is_dropped i t l what x ≡ false
    → has_item (story_after_event s b (Event.Aborted i t l what)).sent.over (process x.id) ≡ false
aborts_leave s b i t l what x h d =
    let own = own_command x.id h.command in
    ap (has_item (story_after_event s b (Event.Aborted i t l what)).sent.over) own
    ∙ ends_leave (is_aborted i t l what) (is_sense_stopped i t l what) by_abort 0 s.commands s.commands b x.id.command
    (λ w. ap (λ (m : ℕ). command_at s.commands (suc m)) (none_more w))
    (λ c e. dropped_so s i t l what x h.is h.command c e ∙ d) (ap (has_item b.sent.over) (sym own) ∙ h.opens)
  where
    none_more : (w : ℕ) → w ≡ 0 + w
    none_more w = omega arith

event_leaves : (s : ScenarioValue) (b : Story) (event : Event) (c : Process) → IsQueued s b.sent c
    → stays_queued event c ≡ true → has_item (story_after_event s b event).sent.over (process c.id) ≡ false
event_leaves s b (Event.End id status) c h e = go (not id.sense && status == CHECK_CONDITION)
  where
    ended : Story
    ended = story_with_end b id (by_status status)

    go : (q : Bool) → has_item
        (if q then record ended { sent = record ended.sent { checks = ended.sent.checks ++ id.command ∷ [] } }
        else ended).sent.over (process c.id) ≡ false
    go true = or_from (same_id id c.id) (has_item b.sent.over (process c.id))
        (id_turned c.id id (not-true (same_id c.id id) e)) h.opens
    go false = or_from (same_id id c.id) (has_item b.sent.over (process c.id))
        (id_turned c.id id (not-true (same_id c.id id) e)) h.opens
event_leaves s b (Event.Lost id) c h e = or_from (same_id id c.id) (has_item b.sent.over (process c.id))
    (id_turned c.id id (not-true (same_id c.id id) e)) h.opens
event_leaves s b (Event.Aborted i t n what) c h e =
    aborts_leave s b i t n what c h (not-true (is_dropped i t n what c) e)
event_leaves s b (Event.Reset dev) c h e = wrong (sym e)
event_leaves s b _ c h e = h.opens

pub still_queued : (s : ScenarioValue) (b : Story) (event : Event) (c : Process) → IsQueued s b.sent c
    → stays_queued event c ≡ true → IsQueued s (story_after_event s b event).sent c
still_queued s b event c h e = record {
  is = h.is;
  command = h.command;
  sent = ap (λ (x : List Item). has_item x (process c.id)) (event_sent s b event) ∙ h.sent;
  opens = event_leaves s b event c h e;
}

-- ---- what it ends

pub ends_over : (s : ScenarioValue) (b : Story) (id : ProcId) (status : ℕ)
    → has_item (story_after_event s b (Event.End id status)).sent.over (process id) ≡ true
ends_over s b id status = (check_grows (story_with_end b id (by_status status)) id status).over (process id)
    (own_has (process id) b.sent.over)

pub lost_over : (s : ScenarioValue) (b : Story) (id : ProcId)
    → has_item (story_after_event s b (Event.Lost id)).sent.over (process id) ≡ true
lost_over s b id = own_has (process id) b.sent.over
