-- After any rows of a prompt trace those to whom a sense is owed stand in the hold, and to those in the hold it is owed
-- (7.6, 7.8).
use Rattle.progress_laws.proofs
use proofs.Names.{inl, inr, ℕ, ◌≡◌, ◌⊎◌, ◌<◌, Bool, true, false, ◌||◌, ◌∙◌, List, [], ◌∷◌, Option, Some, None, refl}
use proofs.Names.{sym, ap, subst, same_Some, list_any, if◌then◌else◌, ◌==◌, wrong, wrong', and_second, or_true, Event}
use proofs.Names.{ProcId, rises, connection, connection_after, bus, Row, Change, Connection, ScenarioValue, Obeys}
use proofs.Names.{CmdDef, Reply, command_at, in_hold, IsSound, Array, Nexus, is_at_unit, is_held, nexus_of, same_nexus}
use proofs.Names.{RowReading, row_reading, link_events, row_events_by, Item, Sent, abort, command_item, has_item}
use proofs.Names.{process, sense_from, sense_item, Story, story_after_events, aim_of, story_by_change, Ready}
use proofs.Names.{run_state_plain, IsPrompt, IsPlain, RunState, array_of, bus_of, item_of, or_start, array_after_events}
use proofs.Names.{item_if, run_state, served_after, ready_among, ready_of, seek_of, obeys_fits, seats_are, is_served_by}
use proofs.Names.{Knows, Begins, RowOf, begins, ends, goes_on, under_reset, change_plain, least_is, NextStood, IsNext}
use proofs.Names.{Items, is_command, is_sense, is_abort, aimed_next, calm_after, calm_before, same_process, events_grow}
use proofs.Names.{AllOf, row_of, change_over, FirstSent, first_sent, sent_with, MayBeReady, ready_runs, Whole}
use proofs.Names.{standing_next, whole, AreFetched, DebtBooks, Debts, IsDebt, NoDebt, nexus_of_command, AreOwed}
use proofs.Debts.{Events.{AllPay, IsNew, Paid, events_pay, new_debt, paid_ends}, Next.{known_served, linked_pays}}
use proofs.Debts.{Next.{senses_same}, Rows.{quiet_row, reset_row}, Steps.{is_checked, is_not_over, same_debt}}
use proofs.{Debts.Steps.{same_debts}, Outcomes.{Answered.{is_told, sense_left}, Facts.{place_array}}}
use proofs.Owed.{Events.{OfCommand, of_command}, Rows.{changed, owed_next, owed_start}}
use Rattle.trace_laws.specs.book_laws.specs.Traces.{apart}

-- ---- as a connection begins no sense is owed to the initiator of its command at its unit

-- It would stand in the hold of the unit.
held_unit : (holds : List Nexus) (q : Nexus) → in_hold holds q ≡ true → is_held holds q.target q.unit ≡ true
held_unit [] q e = e
held_unit (w ∷ holds) q e = go (same_nexus w q) refl e (held_unit holds q)
  where
    go : (x : Bool) → same_nexus w q ≡ x → (x || in_hold holds q) ≡ true
        → (in_hold holds q ≡ true → is_held holds q.target q.unit ≡ true)
        → (is_at_unit w q.target q.unit || is_held holds q.target q.unit) ≡ true
    go true z y more = ap (λ (t : Bool). t || is_held holds q.target q.unit)
        (and_second (w.initiator == q.initiator) (is_at_unit w q.target q.unit) z)
    go false z y more = (λ i. is_at_unit w q.target q.unit || more y i) ∙ or_true (is_at_unit w q.target q.unit)

-- An initiator has no REQUEST SENSE to send as it sends a command.
record SendsCommand (s : ScenarioValue) (b : Sent) (dev : ℕ) (c : CmdDef) : Type 0 where
  host_is : c.host ≡ dev
  none : sense_from s b dev b.checks ≡ None

sends_command : (s : ScenarioValue) (b : Sent) (dev : ℕ) (item : Item) → IsNext s b dev item
    → (id : ProcId) → item ≡ process id → id.sense ≡ false → (c : CmdDef) → command_at s.commands id.command ≡ Some c
    → SendsCommand s b dev c
sends_command s b dev _ (is_abort k z) id e plain c at = absurd (no_process e)
  where
    no_process : abort k ≡ process id → ⊥
    no_process f = absurd cc
sends_command s b dev _ (is_sense k x ex own there z) id e plain c at =
    wrong (ap (λ (w : ProcId). w.sense) (same_process _ _ e) ∙ plain)
sends_command s b dev _ (is_command k time x ex own z may none) id e plain c at =
    let it : x ≡ c = same_Some x c
    (sym ex ∙ ap (command_at s.commands) (ap (λ (w : ProcId). w.command) (same_process _ _ e)) ∙ at) in
    record { host_is = ap (λ (y : CmdDef). y.host) (sym it) ∙ own; none = none }

selected : (s : ScenarioValue) (k : RunState) (dev : ℕ) (c : CmdDef) → Items s k → k.served ≡ None
    → SendsCommand s k.story.sent dev c → NoDebt s k.story.sent (nexus_of_command c)
selected s k dev c items rest sends n d =
    let b : Sent = k.story.sent in
    let host : d.def.host ≡ dev = ap (λ (q : Nexus). q.initiator) d.nexus_is ∙ sends.host_is in
    sense_left s b n d.def b.checks d.def_is (λ i. is_told s k n items rest (is_not_over b n d.owed) i
    || is_not_over b n d.owed i) (is_checked b n d.owed) (ap (λ (m : ℕ). sense_from s b m b.checks) host ∙ sends.none)

-- ---- under RST

-- No event of a process is shown.
reset_none : (s : ScenarioValue) (b : Story) (d : RowReading) (row : Row) → d.change.after.rst ≡ true
    → AllOf None (row_events_by s b d row)
reset_none s b d row on = subst (λ (x : Bool). AllOf None
    (if x then (if rises d.change.own.rst d.change.next.rst then Event.Reset row.dev ∷ [] else [])
    else link_events s b b.link d)) (sym on) (go (rises d.change.own.rst d.change.next.rst))
  where
    no_id : (id : ProcId) → (let a : Option ProcId = None in a) ≡ Some id
        → (let i : Option Item = None in i) ≡ Some (process id)
    no_id id e = absurd cc

    go : (q : Bool) → AllOf None (if q then Event.Reset row.dev ∷ [] else [])
    go true = (λ id e. no_id id e, tt)
    go false = tt

-- ---- a row

-- Its events pay well.
pub row_pays : (s : ScenarioValue) (p : List Row) (row : Row) → row.dev < 8
    → Whole s p → Whole s (row ∷ p) → NextStood s p row → DebtBooks s (run_state s p)
    → AllPay s (story_by_change s (run_state s p).story (row_reading (run_state s p).story.bus_state row) row)
    (row_events_by s (run_state s p).story (row_reading (run_state s p).story.bus_state row) row)
row_pays s p row lt w nx st books = go st.row_is
  where
    k : RunState
    k = run_state s p

    d : RowReading
    d = row_reading k.story.bus_state row

    b : Story
    b = story_by_change s k.story d row

    alone : k.story.bus_state.connection ≡ None → AllPay s b (row_events_by s k.story d row)
    alone e = quiet_row s k.story b d row (w.facts.items.items.apart e).0

    linked : (n : Connection) → k.story.bus_state.connection ≡ Some n → (bus_of k).rst ≡ false
        → (q : Bool) → d.change.after.rst ≡ q → AllPay s b (row_events_by s k.story d row)
    linked n con calm true on = reset_row s k.story b d row on
    linked n con calm false off = linked_pays s p row n lt w nx st books con calm off

    go : RowOf s k row → AllPay s b (row_events_by s k.story d row)
    go (apart e f) = alone e
    go (begins n g) = alone g.first.connection_is
    go (goes_on n c g) = linked n g.row_is.connection_is g.calm d.change.after.rst refl
    go (ends n g) = linked n g.connection_is g.calm d.change.after.rst refl
    go (under_reset on e) = reset_row s k.story b d row on

pub books_next : (s : ScenarioValue) (p : List Row) (row : Row) → Obeys s → IsPrompt s (row ∷ p)
    → row.dev < 8 → Whole s p → Whole s (row ∷ p) → NextStood s p row → DebtBooks s (run_state s p)
    → DebtBooks s (run_state s (row ∷ p))
books_next s p row o prompt lt w nx st books = record {
  debts = subst (λ (x : Array). Debts s j.story.sent x.holds) (sym after_is)
      (paid.debts nx.places.array nx.places.array_is);
  fetched =
      subst (λ (x : Array). AreFetched x.replies) (sym after_is) (paid.fetched nx.places.array nx.places.array_is);
  served = λ id c e plain opens at. by_connection k.story.bus_state.connection d.next refl refl id c e plain opens at;
}
  where
    k : RunState
    k = run_state s p

    j : RunState
    j = run_state s (row ∷ p)

    d : RowReading
    d = row_reading k.story.bus_state row

    b : Story
    b = story_by_change s k.story d row

    shown : List Event
    shown = row_events_by s k.story d row

    items : Items s k
    items = w.facts.items.items

    before_is : array_of s k ≡ w.places.array
    before_is = ap (λ (x : Option Array). or_start s x) w.places.array_is

    after_is : array_of s j ≡ nx.places.array
    after_is = ap (λ (x : Option Array). or_start s x) nx.places.array_is

    checks : b.sent.checks ≡ k.story.sent.checks
    checks = (changed s k.story d row).checks

    more : (l : ℕ) → has_item k.story.sent.over (sense_item l) ≡ true → has_item b.sent.over (sense_item l) ≡ true
    more l z = senses_same s k.story d row l ∙ z

    was : Paid s b k.array
    was = record {
      checked = λ n z. change_over s k.story d row (command_item n)
          (items.checked n (ap (λ (x : List ℕ). list_any (λ m. m == n) x) (sym checks) ∙ z));
      sound = λ a e. subst (λ (x : Array). IsSound s x) (had a e) w.places.sound;
      debts = λ a e. subst (λ (x : Array). Debts s b.sent x.holds) (before_is ∙ had a e) (same_debts s k.story.sent
          b.sent (array_of s k).holds checks (λ n. senses_same s k.story d row n) books.debts);
      fetched = λ a e. subst (λ (x : Array). AreFetched x.replies) (before_is ∙ had a e) books.fetched;
    }
      where
        had : (a : Array) → k.array ≡ Some a → w.places.array ≡ a
        had a e = same_Some w.places.array a (sym w.places.array_is ∙ e)

    paid : Paid s (story_after_events s b shown) (array_after_events s k.array shown)
    paid = events_pay s b k.array shown (seats_are s (obeys_fits s o)) (row_pays s p row lt w nx st books) was

    none_item : {A : Type 0} (i : Item) → (let x : Option Item = None in x) ≡ Some i → A
    none_item i e = absurd cc

    other_connection : {A : Type 0} (m : Connection) → (let x : Option Connection = None in x) ≡ Some m → A
    other_connection m e = absurd cc

    -- in a connection the same process is served
    stays : (m n : Connection) → k.story.bus_state.connection ≡ Some m → d.next ≡ Some n → (id : ProcId) (c : CmdDef)
        → j.served ≡ Some (process id) → id.sense ≡ false → has_item j.story.sent.over (process id) ≡ false
        → command_at s.commands id.command ≡ Some c → NoDebt s j.story.sent (nexus_of_command c)
    stays m n f g id c e plain opens at i debt = go st.row_is
      where
        served : k.served ≡ Some (process id)
        served = sym (λ x. served_after s k (f x) (g x)) ∙ e

        opened : has_item k.story.sent.over (process id) ≡ false
        opened = by (has_item k.story.sent.over (process id)) refl
          where
            by : (q : Bool) → has_item k.story.sent.over (process id) ≡ q
                → has_item k.story.sent.over (process id) ≡ false
            by false z = z
            by true z = wrong
                (sym ((events_grow s b shown).over (process id) (change_over s k.story d row (process id) z)) ∙ opens)

        old : IsDebt s b.sent i (nexus_of_command c) → ⊥
        old x = books.served id c served plain opened at i
            (same_debt s k.story.sent b.sent i (nexus_of_command c) checks more x)

        new : Knows s k m → IsNew j.story.sent (item_of k.story.link) i → ⊥
        new knows x =
            let same : x.id ≡ id = same_process x.id id (same_Some (process x.id) (process id)
            (sym (known_served s k m (process x.id) knows x.item_is) ∙ served)) in
            wrong (sym x.over ∙ ap (λ (y : ProcId). has_item j.story.sent.over (process y)) same ∙ opens)

        by_link : Knows s k m → IsNew j.story.sent (item_of k.story.link) i ⊎ IsDebt s b.sent i (nexus_of_command c) → ⊥
        by_link knows (inl x) = new knows x
        by_link knows (inr x) = old x

        by_none : IsNew j.story.sent None i ⊎ IsDebt s b.sent i (nexus_of_command c) → ⊥
        by_none (inl x) = none_item (process x.id) x.item_is
        by_none (inr x) = old x

        linked : (bus_of k).rst ≡ false → ⊥
        linked calm = by_link (w.stood.books.knows m f calm)
            (new_debt s b shown (item_of k.story.link) i (nexus_of_command c) (row_of s k.story d row) debt)

        go : RowOf s k row → ⊥
        go (apart z y) = other_connection m (sym z ∙ f)
        go (begins y z) = other_connection m (sym z.first.connection_is ∙ f)
        go (goes_on y z t) = linked t.calm
        go (ends y z) = linked z.calm
        go (under_reset on z) =
            by_none (new_debt s b shown None i (nexus_of_command c) (reset_none s k.story d row on) debt)

    -- as one begins
    started : (n : Connection) → k.story.bus_state.connection ≡ None → d.next ≡ Some n → (id : ProcId) (c : CmdDef)
        → j.served ≡ Some (process id) → id.sense ≡ false → command_at s.commands id.command ≡ Some c
        → NoDebt s j.story.sent (nexus_of_command c)
    started n f g id c e plain at = go st.row_is
      where
        pl : IsPlain s p k
        pl = run_state_plain s p w.stood.standing.devices

        reads : d.next ≡ connection (row ∷ p)
        reads =
            λ i. connection_after (pl.connection i) (pl.call i) (change_plain s row p w.stood.standing.devices lt i) row

        none : connection p ≡ None
        none = sym pl.connection ∙ f

        rest : k.served ≡ None
        rest = (items.apart f).1

        kept : (m : Connection) → FirstSent s k row m → NoDebt s k.story.sent (nexus_of_command c)
            → NoDebt s j.story.sent (nexus_of_command c)
        kept m first free = subst (λ (x : Sent). NoDebt s x (nexus_of_command c)) (sym first.sent)
            (by m.reselected (aim_of k.story.aims m.initiator))
          where
            by : (q : Bool) (i : Option Item)
                → NoDebt s (if q then k.story.sent else sent_with k.story.sent i) (nexus_of_command c)
            by true i = free
            by false None = free
            by false (Some i) =
                λ x y. free x (record { def = y.def; def_is = y.def_is; nexus_is = y.nexus_is; owed = y.owed })

        found : (m : Connection) → Begins s k row m → (q : Bool) → m.reselected ≡ q → FirstSent s k row m
            → NoDebt s k.story.sent (nexus_of_command c)
        found m z true re first = by_ready (ready_of s k m.target) refl (sym (first.served
            ∙ ap (λ (x : Bool). if x then item_if (ready_of s k m.target) else aim_of k.story.aims m.initiator) re) ∙ e)
          where
            by_ready : (r : Option Ready) → ready_of s k m.target ≡ r → item_if r ≡ Some (process id)
                → NoDebt s k.story.sent (nexus_of_command c)
            by_ready None x y = none_item (process id) y
            by_ready (Some r) x y = λ i debt. wrong (sym (held i debt) ∙ may.free)
              where
                same : r.process.id ≡ id
                same = same_process r.process.id id (same_Some (process r.process.id) (process id) y)

                may : MayBeReady s w.places.array r
                may = ready_runs s w.places.array k.current_since (seek_of s.targets m.target) m.target r w.places.sound
                    (w.places.rests r.process.id (ap (λ (o : Option Item). is_served_by o r.process.id) rest))
                    ((λ i. ready_among (or_start s (sym w.places.array_is i)) k.current_since
                    (seek_of s.targets m.target) m.target) ∙ x)

                of : OfCommand s r.process.id r.process
                of = of_command s r.process.id r.process may.process_is

                nexus : nexus_of_command c ≡ nexus_of r.process
                nexus = ap nexus_of_command (same_Some c of.def
                    (sym at ∙ ap (λ (y : ProcId). command_at s.commands y.command) (sym same) ∙ of.def_is))
                    ∙ (λ i. record { initiator = of.host_is i; target = of.target_is i; unit = of.unit_is i })

                held : (i : ℕ) → IsDebt s k.story.sent i (nexus_of_command c)
                    → is_held w.places.array.holds r.process.target r.process.unit ≡ true
                held i debt = ap (λ (a : Array). is_held a.holds r.process.target r.process.unit) (sym before_is)
                    ∙ held_unit (array_of s k).holds (nexus_of r.process)
                    (ap (in_hold (array_of s k).holds) (sym nexus) ∙ books.debts.held i (nexus_of_command c) debt)
        found m z false re first =
            let stands : connection (row ∷ p) ≡ Some m = sym reads ∙ z.first.next_is in
            let off : (bus p).rst ≡ false = calm_before s p row m o prompt w.stood none stands in
            let aim : aim_of k.story.aims m.initiator ≡ Some (process id) = sym (first.served
            ∙ ap (λ (x : Bool). if x then item_if (ready_of s k m.target) else aim_of k.story.aims m.initiator) re)
            ∙ e in
            selected s k m.initiator c items rest
            (sends_command s k.story.sent m.initiator (process id) (aimed_next s p row m none stands re
            (w.stood.called none off) (w.facts.items.aims none off) (process id) aim) id refl plain c at)

        go : RowOf s k row → NoDebt s j.story.sent (nexus_of_command c)
        go (apart z y) = other_connection n (sym y ∙ g)
        go (begins m z) =
            let first = first_sent s k row m z.first (items.apart f).0 in
            kept m first (found m z m.reselected refl first)
        go (goes_on m z t) = other_connection m (sym f ∙ t.row_is.connection_is)
        go (ends m z) = other_connection m (sym f ∙ z.connection_is)
        go (under_reset on z) =
            wrong (sym (ap (λ (x : Change). x.after.rst) (sym (change_plain s row p w.stood.standing.devices lt)) ∙ on)
            ∙ calm_after p row n none (sym reads ∙ g))

    by_connection : (x y : Option Connection) → k.story.bus_state.connection ≡ x → d.next ≡ y
        → (id : ProcId) (c : CmdDef) → j.served ≡ Some (process id) → id.sense ≡ false
        → has_item j.story.sent.over (process id) ≡ false → command_at s.commands id.command ≡ Some c
        → NoDebt s j.story.sent (nexus_of_command c)
    by_connection None None f g id c e plain opens at =
        none_item (process id) (sym ((λ x. served_after s k (f x) (g x)) ∙ (items.apart f).1) ∙ e)
    by_connection (Some m) None f g id c e plain opens at =
        none_item (process id) (sym (λ x. served_after s k (f x) (g x)) ∙ e)
    by_connection (Some m) (Some n) f g id c e plain opens at = stays m n f g id c e plain opens at
    by_connection None (Some n) f g id c e plain opens at = started n f g id c e plain at

-- ---- after any rows

books_start : (s : ScenarioValue) → DebtBooks s (run_state s [])
books_start s = record {
  debts = record { held = λ n q d. wrong' d.owed; alone = λ n m q d e. wrong' d.owed; checked = λ n e. wrong' e };
  fetched = λ n r e. absurd (no_reply r e);
  served = λ id c e plain opens at n d. wrong' d.owed;
}
  where
    no_reply : (r : Reply) → (let o : Option Reply = None in o) ≡ Some r → ⊥
    no_reply r e = absurd cc

pub record Indebted (s : ScenarioValue) (p : List Row) : Type 0 where
  pub whole : Whole s p
  pub books : DebtBooks s (run_state s p)
  pub owed : AreOwed s (run_state s p).story.sent (array_of s (run_state s p)).holds

-- To each initiator in a hold the sense of a command is owed, and those to whom one is owed stand there.
pub indebted : (s : ScenarioValue) (p : List Row) → Obeys s → IsPrompt s p → Indebted s p
indebted s [] o prompt = record { whole = whole s [] o prompt; books = books_start s; owed = owed_start s }
indebted s (row ∷ p) o prompt =
    let h : Indebted s p = indebted s p o prompt.0 in
    let lt : row.dev < 8 = (least_is s p row prompt.1).inside in
    let st : NextStood s p row = standing_next s p row o prompt h.whole in
    let nx : Whole s (row ∷ p) = whole s (row ∷ p) o prompt in
    let well = paid_ends s
    (story_by_change s (run_state s p).story (row_reading (run_state s p).story.bus_state row) row)
    (row_events_by s (run_state s p).story (row_reading (run_state s p).story.bus_state row) row)
    (row_pays s p row lt h.whole nx st h.books) in
    record {
      whole = nx;
      books = books_next s p row o prompt lt h.whole nx st h.books;
      owed = owed_next s p row (seats_are s (obeys_fits s o)) (place_array s p h.whole.places)
          (place_array s (row ∷ p) nx.places) well h.owed;
    }
