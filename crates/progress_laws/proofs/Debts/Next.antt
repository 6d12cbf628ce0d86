-- The events of a row in a connection pay well, by what is kept before it.
use Rattle.progress_laws.proofs
use proofs.Names.{inl, inr, ℕ, ◌≡◌, ◌⊎◌, ◌<◌, Bool, true, false, not, ◌&&◌, ◌||◌, ◌∙◌, List, [], ◌∷◌, Option, Some}
use proofs.Names.{None, refl, sym, ap, subst, cases_Bool, same_Some, list_any, ◌==◌, is_none, is_some, slice_index}
use proofs.Names.{wrong, and_first, and_second, or_other, Event, ProcId, change_of, rises, LineSet, is_message_in, bus}
use proofs.Names.{Row, Change, Connection, GOOD, ScenarioValue, CmdDef, reply_in, Reply, Process, command_at}
use proofs.Names.{process_of, nexus_of, RowReading, row_reading, CarriedBytes, carried_if, is_complete, is_completion}
use proofs.Names.{row_events_by, Item, Sent, command_item, has_item, process, sense_item, Link, Story, story_by_change}
use proofs.Names.{phase_of, run_state_plain, target_def_of, IsPlain, RunState, array_of, bus_of, carried_here, item_of}
use proofs.Names.{process_item, run_state, leaving, task_if, is_true_telling, telling, failure_is, lost_calm, loss_by}
use proofs.Names.{has_event, is_in_phase, Knows, gives_up, is_failure, is_left_as_due, is_left_by, is_loss}
use proofs.Names.{is_past_limit, left_as_due, change_plain, risen, NextStood, IsChecked, TalksBy, awaits, talk_of}
use proofs.Names.{items_open, carried_of_item, row_of, change_over, alternating, Whole, IsStatusOf, DebtBooks, IsDebt}
use proofs.{Names.{NoDebt, PaysWell, is_owed, nexus_of_command}, Debts.{Events.{AllPay}, Rows.{Allows, GivenUp, Shown}}}
use proofs.Debts.Rows.{completes, fails_elsewhere, given_up, loses_elsewhere, no_ends, past_not_held, pays_all}
use proofs.{Debts.{Rows.{row_shown}, Steps.{same_no_debt}}, Owed.{Events.{OfCommand, of_command}, Rows.{changed}}}
use Rattle.due_model.specs.array_model.proofs.SoundArrays.{id_is}

-- ---- the change of the bus: which REQUEST SENSE are over

pub senses_same : (s : ScenarioValue) (b : Story) (d : RowReading) (row : Row) (m : ℕ)
    → has_item (story_by_change s b d row).sent.over (sense_item m) ≡ has_item b.sent.over (sense_item m)
senses_same s b d row m =
    elim (cases_Bool (has_item b.sent.over (sense_item m))) [
      | inl e ↦ change_over s b d row (sense_item m) e ∙ sym e
      | inr e ↦ (changed s b d row).over m e ∙ sym e
    ]

-- ---- the process that is served

pub sense_is : (id : ProcId) → id.sense ≡ true → process id ≡ sense_item id.command
sense_is id e = λ i. process (record { command = id.command; sense = e i })

pub known_served : (s : ScenarioValue) (k : RunState) (n : Connection) (i : Item) → Knows s k n
    → item_of k.story.link ≡ Some i → k.served ≡ Some i
known_served s k n i w e = go w.item_is
  where
    no_item : {A : Type 0} → (let o : Option Item = None in o) ≡ Some i → A
    no_item z = absurd cc

    item : w.link.item ≡ Some i
    item = ap (λ (o : Option Link). item_of o) (sym w.link_is) ∙ e

    go : (w.link.item ≡ k.served) ⊎ ((n.reselected ≡ true) × (w.link.item ≡ None)) → k.served ≡ Some i
    go (inl z) = sym z ∙ item
    go (inr z) = no_item (sym z.1 ∙ item)

-- Its sense is owed, where it is a REQUEST SENSE that is not over.
sense_debt : (s : ScenarioValue) (p : List Row) (id : ProcId) (r : Process)
    → Whole s p → id.sense ≡ true → (run_state s p).served ≡ Some (process id)
    → process_of s id ≡ Some r → has_item (run_state s p).story.sent.over (process id) ≡ false
    → IsDebt s (run_state s p).story.sent id.command (nexus_of r)
sense_debt s p id r w e served is opens =
    let k : RunState = run_state s p in
    let of : OfCommand s id r = of_command s id r is in
    let own : IsChecked s k.story.sent id.command = w.facts.items.items.checks id.command
    (ap (has_item k.story.sent.sent) (sym (sense_is id e)) ∙ w.facts.items.items.served (process id) served) in
    record {
      def = of.def;
      def_is = of.def_is;
      nexus_is = λ i. record { initiator = of.host_is i; target = of.target_is i; unit = of.unit_is i };
      owed = λ i. own.checked i && not ((ap (has_item k.story.sent.over) (sym (sense_is id e)) ∙ opens) i);
    }

-- ---- it is given up only where it is none of a sense

given_up_plain : (s : ScenarioValue) (p : List Row) (n : Connection) (id : ProcId) → Whole s p
    → DebtBooks s (run_state s p) → (run_state s p).story.bus_state.connection ≡ Some n
    → (bus_of (run_state s p)).rst ≡ false → is_in_phase (phase_of (bus_of (run_state s p))) ≡ false → GivenUp s p n id
    → id.sense ≡ false
given_up_plain s p n id w books con calm elsewhere g = go id.sense refl
  where
    k : RunState
    k = run_state s p

    pl : IsPlain s p k
    pl = run_state_plain s p w.stood.standing.devices

    opens : has_item k.story.sent.over (process id) ≡ false
    opens = (items_open s p n w.stood w.facts.items (sym pl.connection ∙ con)
        (ap (λ (l : LineSet). l.rst) (sym pl.bus) ∙ calm)).open_is (process id) g.served elsewhere

    own : (r : Process) × (process_of s id ≡ Some r)
    own = w.places.of_scenario id g.served

    go : (q : Bool) → id.sense ≡ q → id.sense ≡ false
    go false e = e
    go true e =
        let held = books.debts.held id.command (nexus_of own.0) (sense_debt s p id own.0 w e g.served own.1 opens) in
        past_not_held (target_def_of s n.target) (task_if s k (Some own.0)) g.count held ((λ i. is_past_limit
        (target_def_of s n.target) (task_if s k (sym (ap (process_item s) g.served ∙ own.1) i)) g.count) ∙ g.past)

allowed : (s : ScenarioValue) (p : List Row) (row : Row) (n : Connection) → Whole s p → Whole s (row ∷ p)
    → DebtBooks s (run_state s p) → (run_state s p).story.bus_state.connection ≡ Some n
    → (bus_of (run_state s p)).rst ≡ false → Knows s (run_state s p) n → Allows (item_of (run_state s p).story.link)
    (row_events_by s (run_state s p).story (row_reading (run_state s p).story.bus_state row) row)
allowed s p row n w nx books con calm knows = record { fails = fails; losses = losses }
  where
    k : RunState
    k = run_state s p

    d : RowReading
    d = row_reading k.story.bus_state row

    told : is_true_telling s k row d ≡ true
    told = and_second (telling s p) (is_true_telling s k row d) nx.told

    fails : (id : ProcId) (code : ℕ) → has_event (row_events_by s k.story d row) (Event.Fail id code) ≡ true
        → id.sense ≡ false
    fails id code has =
        let f = failure_is s p row n id code con told has in
        given_up_plain s p n id w books con calm (fails_elsewhere k.exchange.plan.cause code (phase_of (bus_of k))
        (and_first (is_failure k.exchange.plan.cause code (phase_of (bus_of k))) (gives_up s p row n id) f)) (given_up s
        p row n id (and_second (is_failure k.exchange.plan.cause code (phase_of (bus_of k))) (gives_up s p row n id) f))

    losses : (id : ProcId) → item_of k.story.link ≡ Some (process id)
        → has_event (row_events_by s k.story d row) (Event.Lost id) ≡ true → id.sense ≡ false
    losses id item has =
        let served : k.served ≡ Some (process id) = known_served s k n (process id) knows item in
        let own : (r : Process) × (process_of s id ≡ Some r) = w.places.of_scenario id served in
        let same : own.0.id ≡ id = id_is s id own.0 own.1 in
        let left : is_left_by s k d (Some n) ≡ true = ap (λ (x : Option Connection). is_left_by s k d x) (sym con)
        ∙ and_second (left_as_due s p) (is_left_as_due s k d) nx.left in
        let f = loss_by s p row n own.0 con told (ap (process_of s) same ∙ own.1) (λ gone. or_other (is_some d.next)
        (is_none (leaving s k n.target).to) gone (left_free (lost_calm s k row d id told has) left))
        (ap (λ (x : ProcId). has_event (row_events_by s k.story d row) (Event.Lost x)) same ∙ has) in
        ap (λ (x : ProcId). x.sense) (sym same)
        ∙ given_up_plain s p n own.0.id w books con calm (loses_elsewhere k.exchange.plan.cause (phase_of (bus_of k))
        (and_first (is_loss k.exchange.plan.cause (phase_of (bus_of k))) (gives_up s p row n own.0.id) f))
        (given_up s p row n own.0.id
        (and_second (is_loss k.exchange.plan.cause (phase_of (bus_of k))) (gives_up s p row n own.0.id) f))
      where
        left_free : d.change.after.rst ≡ false → is_left_by s k d (Some n) ≡ true
            → (is_some d.next || is_none (leaving s k n.target).to) ≡ true
        left_free off z = (λ i. sym off i || is_some d.next || is_none (leaving s k n.target).to) ∙ z

-- ---- a process ends

-- The status that an initiator took of a REQUEST SENSE is GOOD.
first_good : (o : Option Reply) (bytes : List ℕ) → IsStatusOf o bytes
    → ((r : Reply) → o ≡ Some r → r.status ≡ GOOD) → (slice_index bytes 0 == GOOD) ≡ true
first_good None bytes h good = ap (λ (x : List ℕ). slice_index x 0 == GOOD) h
first_good (Some r) [] h good = refl
first_good (Some r) (b ∷ bytes) h good = ap (λ (x : ℕ). x == GOOD) (h.0 ∙ good r refl)

-- As COMMAND COMPLETE is taken its process is not over.
pub ends_open : (s : ScenarioValue) (p : List Row) (row : Row) (n : Connection) (id : ProcId) → row.dev < 8 → Whole s p
    → NextStood s p row → (run_state s p).story.bus_state.connection ≡ Some n → (bus_of (run_state s p)).rst ≡ false
    → (row_reading (run_state s p).story.bus_state row).change.after.rst ≡ false → (knows : Knows s (run_state s p) n)
    → is_completion knows.link (row_reading (run_state s p).story.bus_state row).change ≡ true
    → (run_state s p).served ≡ Some (process id) → has_item (run_state s p).story.sent.over (process id) ≡ false
ends_open s p row n id lt was st con calm off knows done served =
    elim (cases_Bool (has_item k.story.sent.over (process id))) [
      | inl e ↦ wrong (sym waits ∙ (t.over (process id) served e).answered)
      | inr e ↦ e
    ]
  where
    k : RunState
    k = run_state s p

    d : RowReading
    d = row_reading k.story.bus_state row

    pl : IsPlain s p k
    pl = run_state_plain s p was.stood.standing.devices

    c : d.change ≡ change_of p row
    c = change_plain s row p was.stood.standing.devices lt

    t : TalksBy s (talk_of k) n knows.link
    t = was.facts.items.items.talks n con calm knows.link knows.link_is

    w : Change
    w = d.change

    parts : (rises w.before.ack w.after.ack && is_message_in w.before) ≡ true
    parts = and_first (rises w.before.ack w.after.ack && is_message_in w.before) (is_complete knows.link.last)
        (and_first (rises w.before.ack w.after.ack && is_message_in w.before && is_complete knows.link.last)
        (not w.after.atn) done)

    raised : rises w.before.ack w.after.ack ≡ true
    raised = and_first (rises w.before.ack w.after.ack) (is_message_in w.before) parts

    here : is_message_in w.before ≡ true
    here = and_second (rises w.before.ack w.after.ack) (is_message_in w.before) parts

    asked : (bus p).req ≡ true
    asked = (alternating p row n st.obeys (sym pl.connection ∙ con)
        (ap (λ (l : LineSet). l.rst) (sym pl.bus) ∙ calm) (ap (λ (x : Change). x.after.rst) (sym c) ∙ off)
        (ap (λ (x : Change). is_message_in x.before) (sym c) ∙ here)).answers
        (ap (λ (x : Change). rises x.before.ack x.after.ack) (sym c) ∙ raised)

    unanswered : (bus p).ack ≡ false
    unanswered = ap (λ (x : Change). x.before.ack) (sym c) ∙ risen d.change.before.ack d.change.after.ack raised

    waits : awaits (bus_of k) ≡ true
    waits = ap awaits pl.bus ∙ (λ i. asked i && not (unanswered i))

ends_well : (s : ScenarioValue) (p : List Row) (row : Row) (n : Connection) (c : CarriedBytes) → row.dev < 8
    → Whole s p → NextStood s p row → DebtBooks s (run_state s p) → (run_state s p).story.bus_state.connection ≡ Some n
    → (bus_of (run_state s p)).rst ≡ false → (row_reading (run_state s p).story.bus_state row).change.after.rst ≡ false
    → (knows : Knows s (run_state s p) n) → carried_if (run_state s p).story knows.link.item ≡ Some c
    → is_completion knows.link (row_reading (run_state s p).story.bus_state row).change ≡ true
    → PaysWell s (story_by_change s (run_state s p).story (row_reading (run_state s p).story.bus_state row) row).sent
    (Event.End c.id (slice_index c.status.bytes 0))
ends_well s p row n c lt w st books con calm off knows carried done =
    (λ e. (good e, owed e), λ e. (fresh e, λ def def_is. none e def def_is))
  where
    k : RunState
    k = run_state s p

    d : RowReading
    d = row_reading k.story.bus_state row

    b : Sent
    b = (story_by_change s k.story d row).sent

    item : knows.link.item ≡ Some (process c.id)
    item = carried_of_item k.story knows.link.item c carried

    served : k.served ≡ Some (process c.id)
    served = known_served s k n (process c.id) knows (ap (λ (o : Option Link). item_of o) knows.link_is ∙ item)

    opens : has_item k.story.sent.over (process c.id) ≡ false
    opens = ends_open s p row n c.id lt w st con calm off knows done served

    checks : b.checks ≡ k.story.sent.checks
    checks = (changed s k.story d row).checks

    mine : carried_here k c.id ≡ c
    mine = same_Some (carried_here k c.id) c (sym (ap (carried_if k.story) item) ∙ carried)

    good : c.id.sense ≡ true → (slice_index c.status.bytes 0 == GOOD) ≡ true
    good e = first_good (reply_in (array_of s k).replies c.id) c.status.bytes
        (subst (λ (x : CarriedBytes). IsStatusOf (reply_in (array_of s k).replies c.id) x.status.bytes) mine
        (w.statuses.areas.areas c.id)) (λ r z. books.fetched c.id.command r
        (ap (reply_in (array_of s k).replies) (λ i. record { command = c.id.command; sense = sym e i }) ∙ z))

    own : (r : Process) × (process_of s c.id ≡ Some r)
    own = w.places.of_scenario c.id served

    owed : c.id.sense ≡ true → is_owed b c.id.command ≡ true
    owed e =
        (λ i. list_any (λ k. k == c.id.command) (checks i) && not (senses_same s k.story d row c.id.command i))
        ∙ (sense_debt s p c.id own.0 w e served own.1 opens).owed

    fresh : c.id.sense ≡ false → has_item b.over (sense_item c.id.command) ≡ false
    fresh e = senses_same s k.story d row c.id.command ∙ go (has_item k.story.sent.over (sense_item c.id.command)) refl
      where
        command : process c.id ≡ command_item c.id.command
        command = λ i. process (record { command = c.id.command; sense = e i })

        go : (q : Bool) → has_item k.story.sent.over (sense_item c.id.command) ≡ q
            → has_item k.story.sent.over (sense_item c.id.command) ≡ false
        go false z = z
        go true z = wrong (sym (ap (has_item k.story.sent.over) command
            ∙ w.facts.items.items.checked c.id.command (books.debts.checked c.id.command z)) ∙ opens)

    none : c.id.sense ≡ false → (def : CmdDef) → command_at s.commands c.id.command ≡ Some def
        → NoDebt s b (nexus_of_command def)
    none e def def_is = same_no_debt s k.story.sent b (nexus_of_command def) checks
        (λ m z. senses_same s k.story d row m ∙ z) (books.served c.id def served e opens def_is)

-- ---- a row of a connection

pub linked_pays : (s : ScenarioValue) (p : List Row) (row : Row) (n : Connection) → row.dev < 8
    → Whole s p → Whole s (row ∷ p) → NextStood s p row → DebtBooks s (run_state s p)
    → (run_state s p).story.bus_state.connection ≡ Some n → (bus_of (run_state s p)).rst ≡ false
    → (row_reading (run_state s p).story.bus_state row).change.after.rst ≡ false
    → AllPay s (story_by_change s (run_state s p).story (row_reading (run_state s p).story.bus_state row) row)
    (row_events_by s (run_state s p).story (row_reading (run_state s p).story.bus_state row) row)
linked_pays s p row n lt w nx st books con calm off = go (row_shown s k.story d row knows.link knows.link_is)
  where
    k : RunState
    k = run_state s p

    d : RowReading
    d = row_reading k.story.bus_state row

    b : Story
    b = story_by_change s k.story d row

    knows : Knows s k n
    knows = w.stood.books.knows n con calm

    go : Shown k.story knows.link d (row_events_by s k.story d row) → AllPay s b (row_events_by s k.story d row)
    go (no_ends none) = pays_all s b (item_of k.story.link) (row_events_by s k.story d row) none
        (row_of s k.story d row) (allowed s p row n w nx books con calm knows)
    go (completes c carried done is) =
        subst (AllPay s b) (sym is) (ends_well s p row n c lt w st books con calm off knows carried done, tt)
