-- After any rows of a prompt trace: an abort that is served is of both ends of its connection; and while the target
-- does not know the command after a selection, the process that it serves has no reply of status GOOD.
use Rattle.trace_laws.proofs
use proofs.Names.{inl, inr, ℕ, ◌≡◌, ◌<◌, Bool, true, false, not, ◌∙◌, List, [], ◌∷◌, Option, Some, None, refl, sym, ap}
use proofs.Names.{subst, same_Some, if◌then◌else◌, is_some, wrong, wrong', same_set-eq, change_of, falls, LineSet}
use proofs.Names.{union, changes_phase, is_command, call, connected, connected_by, connected_of, connection}
use proofs.Names.{connection_after, connection_of, bus, Row, Change, Connection, Call, Calling, only_rst, broken_rule}
use proofs.Names.{ScenarioValue, Obeys, reply_in, is_initiator, Array, RowReading, row_reading, CarriedBytes}
use proofs.Names.{carried_of, is_status_phase, bus_free_events, carried_if, connection_events, end_events}
use proofs.Names.{is_completion, phase_events, Item, process, abort, Link, aim_of, is_status_next, phase_of, Hearing}
use proofs.Names.{IsLeast, due, IsPrompt, RunState, array_of, bus_of, item_of, or_start, item_if, run_state}
use proofs.Names.{served_after, events_of_row, hearing_of, abort_target, initiator_if, ready_of, target_of, command_is}
use proofs.Names.{Instructions, instructions, instructions_after, instructions_on, instructions_with, Knows}
use proofs.Names.{change_plain, least_is, AnyStage, linked, none_some, out_no_status, by_bool, GiveNoGood, IsCalled}
use proofs.Names.{IsDueCall, ConnectionRow, RowKindOf, begins_now, connection_row, goes_now, row_kind, Goes, RowFacts}
use proofs.Names.{stays, ends_here, made_is, quiet_sel, under_rst, NextStood, Stood, link_connection, quiet_at_end}
use proofs.Names.{AbortsBetween, AnswersBadly, AttendedFacts, IsNotGood, known_after, status_is, known_turned}
use proofs.{Names.{InstructedFacts, KnownIn, AttendanceAsked}, Attended.{Events.{row_shows}, Rows.{no_item}}}
use proofs.Attended.Turns.{fails_first, turn_gives}
use Rattle.story_laws.specs.link_laws.specs.LinkStages.{apart}
use Rattle.story_laws.specs.row_laws.proofs.Events.BadReplies.{events_keep}

-- ---- as a selection begins a connection for an abort

-- RST was false before it.
calm_before : (s : ScenarioValue) (p : List Row) (row : Row) (n : Connection) → row.dev < 8 → broken_rule p row ≡ None
    → Stood s p → connection p ≡ None → connection (row ∷ p) ≡ Some n → (bus (row ∷ p)).rst ≡ false
    → (bus p).rst ≡ false
calm_before s p row n lt obeys was alone e off = go (bus p).rst refl was.here
  where
    go : (q : Bool) → (bus p).rst ≡ q → AnyStage s p → (bus p).rst ≡ false
    go false f h = f
    go true f (linked x h) = none_some x (sym alone ∙ link_connection s p x h)
    go true f (apart h free) =
        let sel = quiet_sel (bus p)
        (same_set-eq (union only_rst (bus p)) only_rst (quiet_at_end s p row lt obeys (under_rst s p h f) off)) in
        wrong' (sym (λ i. falls (sel i) (bus (row ∷ p)).sel) ∙ (made_is p row n alone e).sel)

-- The initiator called the target of what it serves.
called_for : (s : ScenarioValue) (p : List Row) (row : Row) (n : Connection)
    → connection p ≡ None → connection (row ∷ p) ≡ Some n → n.reselected ≡ false → IsCalled s p
    → target_of s (aim_of (run_state s p).story.aims n.initiator) ≡ Some n.target
called_for s p row n alone e selects was = by_call (call p) refl (made_is p row n alone e).made
  where
    k : RunState
    k = run_state s p

    by_calling : (c : Call) → call p ≡ Some c → (o : Option Calling) → c.calling ≡ o
        → connected_of c.caller o row.time ≡ Some n → target_of s (aim_of k.story.aims n.initiator) ≡ Some n.target
    by_calling c ec None f z = none_some n z
    by_calling c ec (Some x) f z = by_answer x.answered z
      where
        by_answer : (a : Option ℕ) → connected_by c.caller x a row.time ≡ Some n
            → target_of s (aim_of k.story.aims n.initiator) ≡ Some n.target
        by_answer None y = none_some n y
        by_answer (Some t) y =
            let same : connected c.caller x row.time ≡ n = same_Some (connected c.caller x row.time) n y in
            let re : x.reselects ≡ false = ap (λ (w : Connection). w.reselected) same ∙ selects in
            let caller : n.initiator ≡ c.caller = ap (λ (w : Connection). w.initiator) (sym same)
            ∙ ap (λ (q : Bool). if q then x.called else c.caller) re in
            let target : n.target ≡ x.called = ap (λ (w : Connection). w.target) (sym same)
            ∙ ap (λ (q : Bool). if q then c.caller else x.called) re in
            let d : IsDueCall s p c.caller x = was c x ec f in
            let host : is_initiator s.hosts c.caller ≡ true = d.host_is ∙ ap not re in
            ap (λ (dev : ℕ). target_of s (aim_of k.story.aims dev)) caller ∙ sym (ap (λ (q : Bool).
            if q then target_of s (aim_of k.story.aims c.caller) else initiator_if (ready_of s k c.caller)) host)
            ∙ d.callee_is ∙ ap (λ (y : ℕ). Some y) (sym target)

    by_call : (o : Option Call) → call p ≡ o → connection_of o row.time ≡ Some n
        → target_of s (aim_of k.story.aims n.initiator) ≡ Some n.target
    by_call None f z = none_some n z
    by_call (Some c) f z = by_calling c f c.calling refl z

-- ---- the row

-- What is known after a connection went on with the row.
still_unknown : (w : Rattle.due_model.specs.dialogue_model.specs.declared.exchange.Hearing.Hearing)
    (plan : Rattle.due_model.specs.dialogue_model.specs.declared.exchange.Plan.Plan) (i : Instructions)
    → (instructions_on w plan i).known ≡ false → i.known ≡ false
still_unknown w plan i e =
    by_bool i.known
    (λ f. wrong (sym f ∙ sym (ap (λ (q : Bool). (if q then i else instructions_with w plan i).known) f) ∙ e))
    (λ f. f)

-- Premises of a row, and what holds after it.
pub record Next (s : ScenarioValue) (p : List Row) (row : Row) : Type 0 where
  pub obeys : Obeys s
  pub prompt : IsPrompt s (row ∷ p)
  pub stood : Stood s p
  pub next : NextStood s p row
  pub told : InstructedFacts s p
  pub told_next : InstructedFacts s (row ∷ p)
  pub asked : AttendanceAsked s p row
  pub facts : AttendedFacts s p

pub attended_start : (s : ScenarioValue) → AttendedFacts s []
attended_start s = record { aborts = λ n e. none_some n e; answers = λ n e. none_some n e }

pub attended_next : (s : ScenarioValue) (p : List Row) (row : Row) → Next s p row → AttendedFacts s (row ∷ p)
attended_next s p row h = record {
  aborts = λ n e off. aborts n e off (kind n e off);
  answers = λ n e off re unknown. answers n e off re unknown (kind n e off);
}
  where
    q : List Row
    q = row ∷ p

    k : RunState
    k = run_state s p

    j : RunState
    j = run_state s q

    d : RowReading
    d = row_reading k.story.bus_state row

    i : Instructions
    i = instructions s p

    m : IsLeast (due s p) 8 row
    m = least_is s p row h.prompt.1

    c : d.change ≡ change_of p row
    c = change_plain s row p h.stood.standing.devices m.inside

    next : d.next ≡ connection q
    next = λ i. connection_after (h.stood.plain.connection i) (h.stood.plain.call i) (c i) row

    kind : (n : Connection) → connection q ≡ Some n → (bus q).rst ≡ false → RowKindOf s p row n
    kind n e off = row_kind s p row n h.obeys h.prompt h.stood e off

    served_first : (n : Connection) → connection p ≡ None → connection q ≡ Some n
        → j.served ≡ (if n.reselected then item_if (ready_of s k n.target) else aim_of k.story.aims n.initiator)
    served_first n alone e = λ x. served_after s k ((h.stood.plain.connection ∙ alone) x) ((next ∙ e) x)

    served_on : (n : Connection) → connection p ≡ Some n → connection q ≡ Some n → j.served ≡ k.served
    served_on n con e = λ x. served_after s k ((h.stood.plain.connection ∙ con) x) ((next ∙ e) x)

    -- aborts
    aborts_first : (n : Connection) → connection p ≡ None → connection q ≡ Some n → (bus q).rst ≡ false
        → (t : Bool) → n.reselected ≡ t → AbortsBetween s j n
    aborts_first n alone e off true re a line served at =
        let v = ((h.told_next n e off).again re).1 in
        no_item v.id a (sym v.served_is ∙ served)
    aborts_first n alone e off false re a line served at =
        let calm = calm_before s p row n m.inside h.next.obeys h.stood alone e off in
        let aim : aim_of k.story.aims n.initiator ≡ Some (abort a) = sym (served_first n alone e
        ∙ ap (λ (q : Bool). if q then item_if (ready_of s k n.target) else aim_of k.story.aims n.initiator) re)
        ∙ served in
        same_Some line.target n.target
        (sym (ap (target_of s) aim ∙ ap abort_target at) ∙ called_for s p row n alone e re (h.stood.called alone calm))

    aborts : (n : Connection) → connection q ≡ Some n → (bus q).rst ≡ false → RowKindOf s p row n → AbortsBetween s j n
    aborts n e off (begins_now alone f) a line served at = aborts_first n alone e off n.reselected refl a line served at
    aborts n e off (goes_now con calm) a line served at =
        h.facts.aborts n con calm a line (sym (served_on n con e) ∙ served) at

    -- replies
    answers_first : (n : Connection) → connection p ≡ None → connection q ≡ Some n → (bus q).rst ≡ false
        → n.reselected ≡ false → AnswersBadly s j
    answers_first n alone e off re id served reply given =
        none_some reply (sym (h.asked.begins n id alone e off re served) ∙ given)

    -- replies: a row of the connection
    answers_on : (n : Connection) → connection p ≡ Some n → (bus p).rst ≡ false → connection q ≡ Some n
        → (bus q).rst ≡ false → n.reselected ≡ false → (instructions s q).known ≡ false → AnswersBadly s j
    answers_on n con calm e off re unknown id served = by_array j.array refl h.asked.allowed
      where
        r : ConnectionRow s p row n
        r = connection_row s p row n h.obeys h.prompt h.stood con calm off

        here : Hearing
        here = hearing_of k row d

        served_then : k.served ≡ Some (process id)
        served_then = sym (served_on n con e) ∙ served

        knows : Knows s k n
        knows = h.stood.books.knows n (h.stood.plain.connection ∙ con)
            (ap (λ (l : LineSet). l.rst) h.stood.plain.bus ∙ calm)

        l : Link
        l = knows.link

        item : l.item ≡ Some (process id)
        item = elim knows.item_is [ inl z ↦ z ∙ served_then | inr z ↦ wrong (sym z.0 ∙ re) ]

        told_is : instructions s q ≡ instructions_on here k.exchange.plan i
        told_is = λ x. instructions_after ((h.stood.plain.connection ∙ con) x) ((next ∙ e) x) here k.exchange.plan i

        unknown_on : (instructions_on here k.exchange.plan i).known ≡ false
        unknown_on = ap (λ (x : Instructions). x.known) (sym told_is) ∙ unknown

        unknown_then : i.known ≡ false
        unknown_then = still_unknown here k.exchange.plan i unknown_on

        bad : IsNotGood (reply_in (array_of s k).replies id)
        bad = h.facts.answers n con calm re unknown_then id served_then

        bad_of : (a : Array) → k.array ≡ Some a → IsNotGood (reply_in a.replies id)
        bad_of a z = subst (λ (o : Option Array). IsNotGood (reply_in (or_start s o).replies id)) z bad

        own : CarriedBytes
        own = carried_of k.story.carried id

        shows : events_of_row s p row ≡ connection_events s k.story l d
        shows =
            row_shows s k.story row d l knows.link_is (ap (λ (x : Change). x.after.rst) c ∙ off)
            ∙ (λ x. if is_some ((next ∙ e) x) then connection_events s k.story l d else bus_free_events s l l.last)

        -- a phase is left for STATUS
        failed : (g : Goes s p row n) → changes_phase d.change ≡ true → is_status_phase d.change.after ≡ true
            → own.shown ≡ false → own.refused ≡ false → is_some own.failure ≡ true
        failed g ep status shown refused = by_bool k.exchange.begun
            (λ b. let stage = ((h.told n con calm).selected re).stage b in
            let known : KnownIn false k.exchange.plan (phase_of (bus_of k)) = subst
            (λ (x : Bool). KnownIn x k.exchange.plan (phase_of (bus_of k))) unknown_then stage in
            let after : known_after false k.exchange.plan.struck (phase_of (bus_of k)) ≡ false =
            sym (ap (λ (x : Bool). known_after x k.exchange.plan.struck (phase_of (bus_of k))) unknown_then)
            ∙ sym (known_turned here k.exchange.plan i (phase_of (bus_of k)) b ep before) ∙ unknown_on in fails_first
            s k n.target id b known after (h.asked.leaves n id con calm off b ep (ap item_of knows.link_is ∙ item))
            (ap is_status_next (g.whereto turned (sym h.stood.plain.begun ∙ b))
            ∙ sym (status_is g.change.after) ∙ status_next) shown refused)
            (λ b. wrong (sym status_next ∙ out_no_status g.change.after (g.first turned (sym h.stood.plain.begun ∙ b))))
          where
            turned : changes_phase g.change ≡ true
            turned = ap changes_phase (sym g.row_is.change_is) ∙ ep

            status_next : is_status_phase g.change.after ≡ true
            status_next = ap (λ (x : Change). is_status_phase x.after) (sym g.row_is.change_is) ∙ status

            before : is_command d.change.before
                ≡ Rattle.story_laws.specs.scsi_device.specs.Heard.is_command_phase (phase_of (bus_of k))
            before = ap (λ (x : Change). is_command x.before) g.row_is.change_is ∙ ap is_command (sym g.row_is.bus_is)
                ∙ command_is (bus_of k)

        gives : (g : Goes s p row n) → GiveNoGood (events_of_row s p row)
        gives g = subst GiveNoGood (sym (shows ∙ ap
            (λ (x : Option Item). if changes_phase d.change then phase_events s k.story (carried_if k.story x) d.change
            else if is_completion l d.change then end_events (carried_if k.story x) else []) item))
            (by (changes_phase d.change) refl (is_completion l d.change))
          where
            by : (x : Bool) → changes_phase d.change ≡ x → (y : Bool) → GiveNoGood
                (if x then phase_events s k.story (Some own) d.change else if y then end_events (Some own) else [])
            by true ep y = turn_gives s k.story own d.change (failed g ep)
            by false ep true = (refl, tt)
            by false ep false = tt

        by_facts : RowFacts s p row n → GiveNoGood (events_of_row s p row)
        by_facts (stays g) = gives g
        by_facts (ends_here g) = none_some n (sym g.stopped ∙ e)

        by_array : (o : Option Array) → j.array ≡ o → is_some o ≡ true → IsNotGood (reply_in (array_of s j).replies id)
        by_array None z some = absurd cc
        by_array (Some a) z some = subst (λ (o : Option Array). IsNotGood (reply_in (or_start s o).replies id)) (sym z)
            (events_keep s k.array id (events_of_row s p row) (by_facts r.facts) bad_of a z)

    answers : (n : Connection) → connection q ≡ Some n → (bus q).rst ≡ false → n.reselected ≡ false
        → (instructions s q).known ≡ false → RowKindOf s p row n → AnswersBadly s j
    answers n e off re unknown (begins_now alone f) = answers_first n alone e off re
    answers n e off re unknown (goes_now con calm) = answers_on n con calm e off re unknown
