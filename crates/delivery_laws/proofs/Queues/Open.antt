-- An initiator never has more commands open than its limit.
use Rattle.delivery_laws.proofs
use proofs.Names.{ℕ, suc, ◌≡◌, ◌≤◌, ◌+◌, Bool, true, false, not, ◌&&◌, ◌∙◌, List, [], ◌∷◌, Option, Some, None, refl}
use proofs.Names.{sym, ap, subst, length, arith, and_from, eqb-true, not-true, nat_tests, same_Some, list_any, ◌==◌}
use proofs.Names.{nat_lt, nat_le, and_first, and_second, eq_self, wrong, wrong', and_false, Event, ProcId, connection}
use proofs.Names.{connection_after, bus, Row, Connection, ScenarioValue, Obeys, CmdDef, command_at, RowReading}
use proofs.Names.{row_reading, row_events_by, Item, Sent, process, abort, command_item, is_clash, is_open, may_send}
use proofs.Names.{open_from, open_limit_of, Story, story_after_events, aim_of, story_by_change, run_state_plain}
use proofs.Names.{IsLeast, due, IsPrompt, IsPlain, RunState, run_state, change_plain, least_is, none_some, IsNext}
use proofs.Names.{is_abort, is_sense, aimed_next, calm_before, same_process, events_grow, Whole, whole, WasOpen, before}
use proofs.{Names.{fewer_open, open_before}, Queues.Counts.{count_from, count_less, count_less_at, count_one_more}}
use proofs.Queues.Counts.{is_number, is_open_of, less, open_length, less_again}
use Rattle.progress_laws.specs.row_laws.specs.ItemFacts.{is_command}
use Rattle.progress_laws.proofs.Queues.Rows.{begins}

abbrev pub IsWithin : ScenarioValue → Sent → Type 0
IsWithin s b = (dev : ℕ) → count_from (is_open_of b dev) 1 s.commands ≤ open_limit_of s.hosts dev

room_for_one : (a b l x : ℕ) → a ≤ b + 1 → x ≡ b → nat_lt x l ≡ true → a ≤ l
room_for_one a b l x e f g = grind (arith, nat_tests)

-- ---- where no command is opened

all_before : (s : ScenarioValue) (a b : Sent) → ((i : ℕ) → is_open b i ≡ true → is_open a i ≡ true) → IsWithin s a
    → IsWithin s b
all_before s a b f was dev = less_again (count_from (is_open_of b dev) 1 s.commands)
    (count_from (is_open_of a dev) 1 s.commands) (open_limit_of s.hosts dev)
    (count_less (is_open_of b dev) (is_open_of a dev) 1 s.commands (λ m c e. and_from (c.host == dev) (is_open a m)
    (and_first (c.host == dev) (is_open b m) e) (f m (and_second (c.host == dev) (is_open b m) e)))) (was dev)

-- ---- where one is

-- Open before, or the one of this number.
abbrev IsOpened : Sent → Sent → ℕ → Type 0
IsOpened a b number = (m : ℕ) → is_open b m ≡ true → (m == number) ≡ false → is_open a m ≡ true

number_at : (m : ℕ) → suc m ≡ 1 + m
number_at m = omega arith

opened_one : (s : ScenarioValue) (a b : Sent) (number time : ℕ) (c : CmdDef) → command_at s.commands number ≡ Some c
    → may_send s time (open_from a c.host 1 s.commands) c ≡ true → IsOpened a b number → IsWithin s a → IsWithin s b
opened_one s a b number time c at may f was dev = go (c.host == dev) refl
  where
    now : nat_lt (length (open_from a c.host 1 s.commands)) (open_limit_of s.hosts c.host) ≡ true
    now = and_second (nat_le c.at time)
        (nat_lt (length (open_from a c.host 1 s.commands)) (open_limit_of s.hosts c.host)) (and_first
        (nat_le c.at time && nat_lt (length (open_from a c.host 1 s.commands)) (open_limit_of s.hosts c.host))
        (not (list_any (λ (d : CmdDef). is_clash c d) (open_from a c.host 1 s.commands))) may)

    others : (m : ℕ) (d : CmdDef) → command_at s.commands (suc m) ≡ Some d
        → less (is_open_of b dev) (is_number number) (1 + m) d ≡ true → is_open_of a dev (1 + m) d ≡ true
    others m d there e =
        let is = and_first (d.host == dev && is_open b (1 + m)) (not (1 + m == number)) e in
        and_from (d.host == dev) (is_open a (1 + m)) (and_first (d.host == dev) (is_open b (1 + m)) is)
        (f (1 + m) (and_second (d.host == dev) (is_open b (1 + m)) is)
        (not-true (1 + m == number) (and_second (d.host == dev && is_open b (1 + m)) (not (1 + m == number)) e)))

    -- one of another initiator is not that one
    foreign : (c.host == dev) ≡ false → (m : ℕ) (d : CmdDef) → command_at s.commands (suc m) ≡ Some d
        → is_open_of b dev (1 + m) d ≡ true → is_open_of a dev (1 + m) d ≡ true
    foreign away m d there e = by (1 + m == number) refl
      where
        by : (q : Bool) → (1 + m == number) ≡ q → is_open_of a dev (1 + m) d ≡ true
        by false z = and_from (d.host == dev) (is_open a (1 + m)) (and_first (d.host == dev) (is_open b (1 + m)) e)
            (f (1 + m) (and_second (d.host == dev) (is_open b (1 + m)) e) z)
        by true z =
            let same : d ≡ c = same_Some d c
            (sym there ∙ ap (command_at s.commands) (number_at m ∙ eqb-true (1 + m) number z) ∙ at) in
            wrong (sym (ap (λ (y : CmdDef). y.host == dev) (sym same) ∙ and_first (d.host == dev) (is_open b (1 + m)) e)
            ∙ away)

    go : (q : Bool) → (c.host == dev) ≡ q → count_from (is_open_of b dev) 1 s.commands ≤ open_limit_of s.hosts dev
    go true own =
        let same : c.host ≡ dev = eqb-true c.host dev own in
        room_for_one (count_from (is_open_of b dev) 1 s.commands) (count_from (is_open_of a dev) 1 s.commands)
        (open_limit_of s.hosts dev) (length (open_from a dev 1 s.commands)) (count_one_more
        (is_open_of b dev) (is_open_of a dev) number 1 s.commands others) (open_length a dev 1 s.commands)
        (subst (λ (x : ℕ). nat_lt (length (open_from a x 1 s.commands)) (open_limit_of s.hosts x) ≡ true) same now)
    go false away = less_again (count_from (is_open_of b dev) 1 s.commands) (count_from (is_open_of a dev) 1 s.commands)
        (open_limit_of s.hosts dev) (count_less_at (is_open_of b dev) (is_open_of a dev) 1 s.commands (foreign away))
        (was dev)

no_item : {A : Type 0} (m i : ℕ) → abort m ≡ command_item i → A
no_item m i e = absurd cc

-- ---- a row

within_next : (s : ScenarioValue) (p : List Row) (row : Row) → Obeys s → IsPrompt s (row ∷ p)
    → IsWithin s (run_state s p).story.sent → IsWithin s (run_state s (row ∷ p)).story.sent
within_next s p row o prompt was = by k.story.bus_state.connection d.next refl refl
  where
    k : RunState
    k = run_state s p

    j : RunState
    j = run_state s (row ∷ p)

    d : RowReading
    d = row_reading k.story.bus_state row

    w : Whole s p
    w = whole s p o prompt.0

    m : IsLeast (due s p) 8 row
    m = least_is s p row prompt.1

    pl : IsPlain s p k
    pl = run_state_plain s p w.stood.standing.devices

    reads : d.next ≡ connection (row ∷ p)
    reads = λ i. connection_after (pl.connection i) (pl.call i)
        (change_plain s row p w.stood.standing.devices m.inside i) row

    changed : Story
    changed = story_by_change s k.story d row

    shown : List Event
    shown = row_events_by s k.story d row

    opens : (u : ℕ) → is_open j.story.sent u ≡ true → WasOpen k d u
    opens u e = open_before s k d row u (let g = events_grow s changed shown in
        fewer_open changed.sent (story_after_events s changed shown).sent u g.sent g.over e)

    -- where no selection begins a connection
    none_begins :
        ((u : ℕ) (x : Connection) → k.story.bus_state.connection ≡ None → d.next ≡ Some x → x.reselected ≡ false
        → aim_of k.story.aims x.initiator ≡ Some (command_item u) → is_open k.story.sent u ≡ true)
        → IsWithin s j.story.sent
    none_begins f = all_before s k.story.sent j.story.sent each was
      where
        each : (u : ℕ) → is_open j.story.sent u ≡ true → is_open k.story.sent u ≡ true
        each u e = elim (opens u e) [
          | before z ↦ z
          | begins x y z v aim ↦ f u x y z v aim
        ]

    selecting : (x : Connection) → k.story.bus_state.connection ≡ None → d.next ≡ Some x → x.reselected ≡ false
        → (item : Item) → aim_of k.story.aims x.initiator ≡ Some item → IsNext s k.story.sent x.initiator item
        → IsWithin s j.story.sent
    selecting x f g re item aim next = of item aim next
      where
        same_aim : (item : Item) → aim_of k.story.aims x.initiator ≡ Some item → (u : ℕ) (y : Connection)
            → d.next ≡ Some y → aim_of k.story.aims y.initiator ≡ Some (command_item u) → item ≡ command_item u
        same_aim item aim u y next is = same_Some item (command_item u)
            (sym aim ∙ ap (λ (c : Connection). aim_of k.story.aims c.initiator) (same_Some x y (sym g ∙ next)) ∙ is)

        of : (item : Item) → aim_of k.story.aims x.initiator ≡ Some item → IsNext s k.story.sent x.initiator item
            → IsWithin s j.story.sent
        of _ aim (is_abort number z) =
            none_begins (λ u y a b c e. no_item number u (same_aim (abort number) aim u y b e))
        of _ aim (is_sense number c at own there z) = none_begins (λ u y a b v e. wrong (ap (λ (i : ProcId). i.sense)
            (same_process _ _ (same_aim (process (record { command = number; sense = true })) aim u y b e))))
        of _ aim (is_command number time c at own z may none) = opened_one s k.story.sent j.story.sent number time c at
            (subst (λ (dev : ℕ). may_send s time (open_from k.story.sent dev 1 s.commands) c ≡ true) (sym own) may) each
            was
          where
            each : IsOpened k.story.sent j.story.sent number
            each u e apart = elim (opens u e) [
              | before y ↦ y
              | begins y a b v is ↦ wrong' (sym (ap (λ (i : ℕ). i == number) (ap (λ (i : ProcId). i.command)
                  (same_process _ _ (same_aim (process (record { command = number; sense = false })) aim u y b is)))
                  ∙ apart) ∙ eq_self number)
            ]

    by : (x y : Option Connection) → k.story.bus_state.connection ≡ x → d.next ≡ y → IsWithin s j.story.sent
    by (Some l) y f g = none_begins (λ u x a b c e. none_some l (sym a ∙ f))
    by None None f g = none_begins (λ u x a b c e. none_some x (sym g ∙ b))
    by None (Some x) f g = go x.reselected refl
      where
        go : (q : Bool) → x.reselected ≡ q → IsWithin s j.story.sent
        go true re = none_begins
            (λ u y a b c e. wrong (sym re ∙ ap (λ (z : Connection). z.reselected) (same_Some x y (sym g ∙ b)) ∙ c))
        go false re = aimed (aim_of k.story.aims x.initiator) refl
          where
            aimed : (item : Option Item) → aim_of k.story.aims x.initiator ≡ item → IsWithin s j.story.sent
            aimed None aim = none_begins (λ u y a b c e. none_some (command_item u)
                (sym aim ∙ ap (λ (z : Connection). aim_of k.story.aims z.initiator) (same_Some x y (sym g ∙ b)) ∙ e))
            aimed (Some item) aim =
                let alone : connection p ≡ None = sym pl.connection ∙ f in
                let stands : connection (row ∷ p) ≡ Some x = sym reads ∙ g in
                let off : (bus p).rst ≡ false = calm_before s p row x o prompt w.stood alone stands in
                selecting x f g re item aim (aimed_next s p row x alone stands re (w.stood.called alone off)
                (w.facts.items.aims alone off) item aim)

none_open : (s : ScenarioValue) → IsWithin s (run_state s []).story.sent
none_open s dev = less_again (count_from (is_open_of (run_state s []).story.sent dev) 1 s.commands) 0
    (open_limit_of s.hosts dev) (none 1 s.commands) (omega arith)
  where
    at_none : (a b : ℕ) → a ≡ 0 → b ≤ 0 → a + b ≤ 0
    at_none a b e f = omega (arith, e, f)

    none : (m : ℕ) (commands : List CmdDef) → count_from (is_open_of (run_state s []).story.sent dev) m commands ≤ 0
    none m [] = omega arith
    none m (c ∷ commands) = at_none _ (count_from (is_open_of (run_state s []).story.sent dev) (m + 1) commands)
        (ap Rattle.due_model.specs.dialogue_model.specs.PhaseBytes.one_if (and_false (c.host == dev)))
        (none (m + 1) commands)

pub open_within : (s : ScenarioValue) (p : List Row) → Obeys s → IsPrompt s p → IsWithin s (run_state s p).story.sent
open_within s [] o prompt = none_open s
open_within s (row ∷ p) o prompt = within_next s p row o prompt (open_within s p o prompt.0)
