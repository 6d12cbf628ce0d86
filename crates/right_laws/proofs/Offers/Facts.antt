-- In DATA IN the byte that crosses is the one that is due, after any rows of a prompt trace (6.1.5.1, 6.1.5.2).
use Rattle.right_laws.proofs
use proofs.Names.{ℕ, ◌≡◌, ◌⊎◌, inl, inr, ◌<◌, Bool, true, false, not, ◌&&◌, ◌==◌, ◌%◌, ◌∙◌, List, [], ◌∷◌, Option, Some}
use proofs.Names.{None, refl, sym, ap, subst, true≢false, count_ones, if◌then◌else◌, is_some, wrong, wrong', and_false}
use proofs.Names.{Event, same_self, change_of, rises, LineSet, same, changes_phase, is_command, is_message_out}
use proofs.Names.{is_message_in, is_fault, connection, connection_after, receiver_in, bus, Row, Change, Connection}
use proofs.Names.{Handshakes, handshakes, no_handshakes, handshakes_after, answered_if, asked_if, ScenarioValue, Obeys}
use proofs.Names.{Policy, Process, row_reading, is_status_phase, is_completion, end_events, carried_if, row_events_by}
use proofs.Names.{phase_events, link_events, aim_of, policy_of, Exchange, begun, Serving, phase_of, phase_leaving}
use proofs.Names.{leaving_by, after_messages, unless_attention, data_byte, one_if, Leaving, Next, Phase, Task}
use proofs.Names.{run_state_plain, target_def_of, IsPrompt, IsPlain, AreOfDevices, RunState, array_of, or_start, bus_of}
use proofs.Names.{process_item, process_served, run_state, run_state_after, array_after_events, exchange_after}
use proofs.Names.{first_exchange, progress_after, progress_by_leaving, leaving_of, serving_of, leaving, task_of}
use proofs.Names.{given_of, InConnection, in_connection, reading_is, Knows, RowKind, still, strikes, crosses, turns}
use proofs.Names.{IsRowIn, reading_in, Begins, change_plain, least_is, EndLines, connected_bus, Linked, LinkStage}
use proofs.Names.{when_selected, when_settling, when_turning, when_offering, when_shaking, when_pulsing, none_some}
use proofs.Names.{by_bool, GoingRow, connection_row, going_row, stage_of_connection, RowKindOf, begins_now, goes_now}
use proofs.{Names.{row_kind, Stood, NextStood, beginning, no_events, is_in_next}, Offers.Rows.{bytes_kept, kept_row}}
use proofs.Offers.Steps.{is_data_in, data_at, IsDataOffered, DataRow, IsDataByte, elsewhere, offered_next, data_crosses}

abbrev pub DataOfferFacts : ScenarioValue → List Row → Type 0
DataOfferFacts s p = (n : Connection) → connection p ≡ Some n → (bus p).rst ≡ false → IsDataOffered s p n

-- ---- lines

pub data_parts : (b : LineSet) → is_data_in b ≡ true → (b.msg ≡ false) × (b.cd ≡ false) × (b.io ≡ true)
data_parts b e = go b.msg b.cd b.io refl refl refl e
  where
    go : (m d i : Bool) → b.msg ≡ m → b.cd ≡ d → b.io ≡ i → (not m && not d && i) ≡ true
        → (b.msg ≡ false) × (b.cd ≡ false) × (b.io ≡ true)
    go true d i x y z w = wrong' w
    go false true i x y z w = wrong' w
    go false false true x y z w = (x, y, z)
    go false false false x y z w = wrong' w

data_stays : (c : Change) → is_data_in c.before ≡ true → is_data_in c.after ≡ true → changes_phase c ≡ false
data_stays c e f =
    let x = data_parts c.before e in
    let y = data_parts c.after f in
    (λ i. not (same c.before.msg ((y.0 ∙ sym x.0) i)
    && same c.before.cd ((y.1 ∙ sym x.1) i) && same c.before.io ((y.2 ∙ sym x.2) i)))
    ∙ (λ i. not (same_self c.before.msg i && same_self c.before.cd i && same_self c.before.io i))

-- The phase does not stay.
turns_to : (c : Change) → is_data_in c.before ≡ false → is_data_in c.after ≡ true → changes_phase c ≡ true
turns_to c e f =
    by_bool (changes_phase c)
    (λ z. z)
    (λ z.
    let s = Rattle.trace_laws.specs.book_laws.proofs.Common.InConnection.same_phase_is c z in
    wrong (sym f ∙ (λ i. not (s.msg i) && not (s.cd i) && s.io i) ∙ e))

-- It is entered from MESSAGE IN, which counts nothing.
quiet_entry : (v : Serving) (atn : Bool) (phase : Phase)
    → (phase ≡ Phase.MessageIn) ⊎ (phase ≡ Phase.Status) → is_in_next (phase_leaving v atn phase).to ≡ true
    → ((phase_leaving v atn phase).done ≡ false) × ((phase_leaving v atn phase).counts ≡ false)
quiet_entry v atn phase (inl e) to = subst (λ (x : Phase). ((phase_leaving v atn x).done ≡ false)
    × ((phase_leaving v atn x).counts ≡ false)) (sym e) (go atn v.plan.next v.task)
  where
    go : (q : Bool) (next : Next) (t : Option Task)
        → ((unless_attention q (after_messages (record v { task = t }) next)).done ≡ false)
        × ((unless_attention q (after_messages (record v { task = t }) next)).counts ≡ false)
    go true next t = (refl, refl)
    go false Next.Command t = (refl, refl)
    go false Next.Status t = (refl, refl)
    go false Next.FreeBus t = (refl, refl)
    go false Next.GoOn None = (refl, refl)
    go false Next.GoOn (Some t) = (refl, refl)
quiet_entry v atn phase (inr e) to = subst
    (λ (x : Phase). ((phase_leaving v atn x).done ≡ false) × ((phase_leaving v atn x).counts ≡ false)) (sym e) (go atn)
  where
    go :
        (q : Bool) → ((phase_leaving v q Phase.Status).done ≡ false) × ((phase_leaving v q Phase.Status).counts ≡ false)
    go true = (refl, refl)
    go false = (refl, refl)

pub data_no_out : (b : LineSet) → is_data_in b ≡ true → is_message_out b ≡ false
data_no_out b e = let x = data_parts b e in λ i. x.0 i && b.cd && not b.io

-- ---- a row of a connection

in_parts : (b : LineSet) → b.io ≡ true → is_data_in b ≡ false
    → (b.msg ≡ true → b.cd ≡ true) → (phase_of b ≡ Phase.MessageIn) ⊎ (phase_of b ≡ Phase.Status)
in_parts b e f known = go b.msg b.cd refl refl
  where
    go : (m d : Bool) → b.msg ≡ m → b.cd ≡ d → (phase_of b ≡ Phase.MessageIn) ⊎ (phase_of b ≡ Phase.Status)
    go true d x y = inl (λ i. if x i then (if e i then Phase.MessageIn else Phase.MessageOut)
        else if b.cd then (if b.io then Phase.Status else Phase.Command)
        else if b.io then Phase.DataIn else Phase.DataOut)
    go false true x y = inr (λ i. if x i then (if e i then Phase.MessageIn else Phase.MessageOut)
        else if y i then (if e i then Phase.Status else Phase.Command) else if e i then Phase.DataIn else Phase.DataOut)
    go false false x y = wrong (sym (λ i. not (x i) && not (y i) && e i) ∙ f)

pub to_data : (b : LineSet) → is_data_in b ≡ true → phase_of b ≡ Phase.DataIn
to_data b e =
    let x = data_parts b e in
    λ i. if x.0 i then (if x.2 i then Phase.MessageIn else Phase.MessageOut)
    else if x.1 i then (if x.2 i then Phase.Status else Phase.Command)
    else if x.2 i then Phase.DataIn else Phase.DataOut

data_row : (s : ScenarioValue) (p : List Row) (row : Row) (n : Connection) → AreOfDevices p → AreOfDevices (row ∷ p)
    → Stood s p → connection p ≡ Some n → (bus p).rst ≡ false → GoingRow s p row n → DataRow s p row n
data_row s p row n dv dv2 was con off g = record {
  kept = λ a b q. kept_row s p row n c knows.link dv dv2 r (data_stays c (before a) (after b)) (before a) knows.link_is;
  turned = turned;
  fresh = λ a b. ap (λ (x : ℕ). x == 0) (none_asked (turns_to c (before_not a) (after b)));
}
  where
    k : RunState
    k = run_state s p

    j : RunState
    j = run_state_after s k row

    c : Change
    c = g.change

    r : IsRowIn k row n c
    r = g.goes.row_is

    pl : IsPlain s p k
    pl = run_state_plain s p dv

    pl2 : IsPlain s (row ∷ p) j
    pl2 = run_state_plain s (row ∷ p) dv2

    knows : Knows s k n
    knows = was.books.knows n (pl.connection ∙ con) (ap (λ (x : LineSet). x.rst) pl.bus ∙ off)

    before : is_data_in (bus p) ≡ true → is_data_in c.before ≡ true
    before e = ap (λ (x : Change). is_data_in x.before) g.change_is ∙ e

    before_not : is_data_in (bus p) ≡ false → is_data_in c.before ≡ false
    before_not e = ap (λ (x : Change). is_data_in x.before) g.change_is ∙ e

    after : is_data_in (bus (row ∷ p)) ≡ true → is_data_in c.after ≡ true
    after e = ap (λ (x : Change). is_data_in x.after) g.change_is ∙ e

    lines : changes_phase c ≡ true → (is_fault row.kind ≡ false) × (receiver_in n c ≡ None)
    lines ep = by r.kind
      where
        by : RowKind row n c → (is_fault row.kind ≡ false) × (receiver_in n c ≡ None)
        by (still ef e er) = wrong (sym ep ∙ e)
        by (strikes ef e er) = wrong (sym ep ∙ e)
        by (crosses dev ef e er) = wrong (sym ep ∙ e)
        by (turns ef e er) = (ef, er)

    in_row : (ep : changes_phase c ≡ true) → InConnection s k row n c true false false
    in_row ep =
        in_connection s k row n c true false false r ep (ap (λ (z : Option ℕ). is_some z) (lines ep).1) (lines ep).0

    none_asked : changes_phase c ≡ true → (handshakes (row ∷ p)).requests ≡ 0
    none_asked ep = ap (λ (x : Handshakes). x.requests) (sym pl2.handshakes ∙ (in_row ep).handshakes_is)
        ∙ ap (λ (q : Bool). (handshakes_after q (Some n) c row.time k.handshakes).requests) (lines ep).0
        ∙ ap (λ (q : Bool). (if q then no_handshakes else answered_if (rises c.before.ack c.after.ack) row.time
        (asked_if (rises c.before.req c.after.req) row.time k.handshakes)).requests) ep

    policy : Policy
    policy = policy_of (target_def_of s n.target)

    turned : (bus p).io ≡ true → is_data_in (bus p) ≡ false → is_data_in (bus (row ∷ p)) ≡ true
        → data_byte policy (task_of s k) (given_of s k) (one_if (leaving s k n.target).done) 0 ≡ data_at s (row ∷ p) n
    turned io was_not is_now =
        ap (λ (q : Bool). data_byte policy (task_of s k) (given_of s k) (one_if q) 0) quiet.0
        ∙ sym (bytes_kept s k j policy 0 (ap (process_item s) (in_row ep).served_is) array progress)
        ∙ ap (data_byte policy (task_of s j) (given_of s j) 0) (sym (none_asked ep))
      where
        ep : changes_phase c ≡ true
        ep = turns_to c (before_not was_not) (after is_now)

        change : changes_phase (row_reading k.story.bus_state row).change ≡ true
        change = ap changes_phase r.change_is ∙ ep

        begun_is : k.exchange.begun ≡ true
        begun_is = by_bool k.exchange.begun (λ e. e) (λ e. wrong' (sym (data_no_out c.after (after is_now))
            ∙ (ap (λ (x : Change). is_message_out x.after) (sym r.change_is) ∙ g.goes.first change e)))

        known : (bus_of k).msg ≡ true → (bus_of k).cd ≡ true
        known m = (g.goes.phase m).0

        from : (phase_of (bus_of k) ≡ Phase.MessageIn) ⊎ (phase_of (bus_of k) ≡ Phase.Status)
        from = in_parts (bus_of k) (ap (λ (x : LineSet). x.io) pl.bus ∙ io) (ap is_data_in pl.bus ∙ was_not) known

        leaving_is : leaving s k n.target ≡ phase_leaving (serving_of s k n.target) (bus_of k).atn (phase_of (bus_of k))
        leaving_is = λ z. leaving_by (serving_of s k n.target) (begun_is z) (bus_of k)

        whereto : is_in_next (phase_leaving (serving_of s k n.target) (bus_of k).atn (phase_of (bus_of k))).to ≡ true
        whereto = ap (λ (x : Leaving). is_in_next x.to) (sym leaving_is)
            ∙ ap is_in_next (g.lines.whereto (ap changes_phase g.lines_are ∙ ep) (sym pl.begun ∙ begun_is)
            ∙ ap (λ (x : Change). Some (phase_of x.after)) g.lines_are
            ∙ ap (λ (x : Phase). Some x) (to_data c.after (after is_now)))

        quiet : ((leaving s k n.target).done ≡ false) × ((leaving s k n.target).counts ≡ false)
        quiet =
            let w = quiet_entry (serving_of s k n.target) (bus_of k).atn (phase_of (bus_of k)) from whereto in
            (ap (λ (x : Leaving). x.done) leaving_is ∙ w.0, ap (λ (x : Leaving). x.counts) leaving_is ∙ w.1)

        no_command : (b : LineSet) → b.io ≡ true → is_command b ≡ false
        no_command b e = (λ i. not b.msg && b.cd && not (e i)) ∙ and_false (not b.msg && b.cd)

        no_status : (b : LineSet) → is_data_in b ≡ true → is_status_phase b ≡ false
        no_status b e = let x = data_parts b e in λ i. not (x.0 i) && x.1 i && b.io

        shown : row_events_by s k.story (row_reading k.story.bus_state row) row ≡ []
        shown = (λ i. row_events_by s k.story
            (reading_is k row n c false r (ap (λ (z : Option ℕ). is_some z) (lines ep).1) i) row)
            ∙ (λ i. if r.calm i then (if rises c.own.rst c.next.rst then Event.Reset row.dev ∷ [] else [])
            else link_events s k.story (knows.link_is i) (reading_in k.story.bus_state n c false))
            ∙ ap (λ (q : Bool). if q then phase_events s k.story (carried_if k.story knows.link.item) c
            else (if is_completion knows.link c then end_events (carried_if k.story knows.link.item) else [])) ep
            ∙ no_events s k.story (carried_if k.story knows.link.item) c
            (no_command c.before (ap (λ (x : Change). x.before.io) g.change_is ∙ io)) (no_status c.after (after is_now))

        array : array_of s j ≡ array_of s k
        array = ap (λ (x : List Event). or_start s (array_after_events s k.array x)) shown

        progress : j.progress ≡ k.progress
        progress =
            (λ z. progress_after s k (reading_is k row n c false r (ap (λ (y : Option ℕ). is_some y) (lines ep).1) z)
            (r.connection_is z) (reading_is k row n c false r (ap (λ (y : Option ℕ). is_some y) (lines ep).1) z).next
            (leaving_of s k (r.connection_is z)))
            ∙ (λ z. if ep z && begun_is z then progress_by_leaving k (process_served s k) (leaving s k n.target)
            else k.progress) ∙ go (process_served s k)
          where
            go : (o : Option Process) → progress_by_leaving k o (leaving s k n.target) ≡ k.progress
            go None = refl
            go (Some q) = λ z. Rattle.due_model.specs.LastingState.progress_with k.progress q.id (quiet.0 z) (quiet.1 z)

-- ---- any row

pub offer_start : (s : ScenarioValue) → DataOfferFacts s []
offer_start s n e calm = none_some n e

pub offer_next : (s : ScenarioValue) (p : List Row) (row : Row) → Obeys s → IsPrompt s (row ∷ p) → Stood s p
    → NextStood s p row → DataOfferFacts s p → DataOfferFacts s (row ∷ p)
offer_next s p row o prompt was next h n after calm = go (row_kind s p row n o prompt was after calm)
  where
    k : RunState
    k = run_state s p

    j : RunState
    j = run_state_after s k row

    dv : AreOfDevices p
    dv = was.standing.devices

    lt : row.dev < 8
    lt = (least_is s p row prompt.1).inside

    dv2 : AreOfDevices (row ∷ p)
    dv2 = (lt, dv)

    pl2 : IsPlain s (row ∷ p) j
    pl2 = run_state_plain s (row ∷ p) dv2

    go : RowKindOf s p row n → IsDataOffered s (row ∷ p) n
    go (goes_now con off) =
        let r = connection_row s p row n o prompt was con off calm in
        let g = going_row s p row n dv lt con after calm next.row_is r.facts in
        offered_next s p row n dv (h n con off) r.link (data_row s p row n dv dv2 was con off g)
    go (begins_now alone f) = λ e linked on. elsewhere s (row ∷ p) n e (no_data e linked on)
      where
        c : (row_reading k.story.bus_state row).change ≡ change_of p row
        c = change_plain s row p dv lt

        con : k.story.bus_state.connection ≡ None
        con = was.plain.connection ∙ alone

        begun_next : (row_reading k.story.bus_state row).next ≡ Some n
        begun_next = (λ i. connection_after (was.plain.connection i) (was.plain.call i) (c i) row) ∙ after

        b : Begins s k row n
        b = beginning s k row n con begun_next (ap (λ (x : Change). x.after.rst) c ∙ calm) next.row_is

        first : j.exchange ≡ first_exchange s k n (aim_of k.story.aims n.initiator)
        first = λ i. exchange_after s k row (row_reading k.story.bus_state row) (con i) (begun_next i)
            (leaving_of s k (con i))

        again : begun (row ∷ p) ≡ true → n.reselected ≡ true
        again on = sym (ap (λ (x : Exchange). x.begun) first) ∙ pl2.begun ∙ on

        names : (e : EndLines) → Linked (row ∷ p) n e → begun (row ∷ p) ≡ true → is_message_in (connected_bus e) ≡ true
        names e linked on = ap is_message_in (sym linked.stands.bus_is)
            ∙ ap (λ (x : Change). is_message_in x.after) (sym c) ∙ b.names (again on)

        not_in : (l : LineSet) → is_data_in l ≡ true → is_message_in l ≡ false
        not_in l z = let x = data_parts l z in λ i. x.0 i && l.cd && l.io

        no_data : (e : EndLines) → Linked (row ∷ p) n e → begun (row ∷ p) ≡ true → is_data_in (connected_bus e) ≡ true
            → ⊥
        no_data e linked on z = true≢false (sym (names e linked on) ∙ not_in (connected_bus e) z)

-- ---- what crosses

pub record IsLinked (p : List Row) (n : Connection) : Type 0 where
  pub ends_are : EndLines
  pub linked : Linked p n ends_are

linked_at : (s : ScenarioValue) (p : List Row) (n : Connection) → LinkStage s p n → IsLinked p n
linked_at s p n (when_selected h) = record { ends_are = _; linked = h.linked }
linked_at s p n (when_settling bsy atn msg cd io y h) = record { ends_are = _; linked = h.linked }
linked_at s p n (when_turning atn x msg cd h) = record { ends_are = _; linked = h.linked }
linked_at s p n (when_offering atn msg cd y h) = record { ends_are = _; linked = h.linked }
linked_at s p n (when_shaking msg cd io req ack atn x y h) = record { ends_are = _; linked = h.linked }
linked_at s p n (when_pulsing io req ack atn x y h a) = record { ends_are = _; linked = h.linked }

-- In DATA IN, as REQ rises: the byte of the run that is due.
pub data_in_carries : (s : ScenarioValue) (p : List Row) (row : Row) (n : Connection) → Obeys s
    → IsPrompt s (row ∷ p) → Stood s p → NextStood s p row → DataOfferFacts s p → connection p ≡ Some n
    → (bus p).rst ≡ false → connection (row ∷ p) ≡ Some n → (bus (row ∷ p)).rst ≡ false → is_data_in (bus p) ≡ true
    → rises (bus p).req (bus (row ∷ p)).req ≡ true → IsDataByte s p row n
data_in_carries s p row n o prompt was next h con off after calm here rose =
    let lt = (least_is s p row prompt.1).inside in
    let r = connection_row s p row n o prompt was con off calm in
    let g = going_row s p row n was.standing.devices lt con after calm next.row_is r.facts in
    let l = linked_at s (row ∷ p) n (stage_of_connection s (row ∷ p) n next.stood after calm) in
    let is : g.lines.change ≡ change_of p row = g.lines_are ∙ g.change_is in
    let some : is_some (receiver_in n g.lines.change) ≡ true = ap (λ (x : Change). is_some (receiver_in n x)) is
    ∙ (λ i. is_some (if (data_parts (bus p) here).2 i then (if rose i then Some n.initiator else None)
    else (if rises (bus p).ack (bus (row ∷ p)).ack then Some n.target else None))) in
    data_crosses s p row n l.ends_are (h n con off) r.link l.linked (record {
      here = here;
      rose = rose;
      odd = ap (λ (x : Change). count_ones x.after.data_bits % 2 == 1) (sym is) ∙ g.lines.odd some;
    })
