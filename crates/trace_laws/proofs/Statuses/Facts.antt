-- As the initiator takes COMMAND COMPLETE, the status that was carried is that of the reply that the plain disk array
-- has given, after any rows of a prompt trace (6.4, 6.6.5, 7.3).
use Rattle.trace_laws.proofs
use proofs.Names.{inl, inr, ℕ, ◌≡◌, ◌<◌, Bool, true, false, not, ◌&&◌, ◌%◌, ◌∙◌, List, [], ◌∷◌, ◌++◌, Option, Some}
use proofs.Names.{None, refl, sym, ap, subst, same_Some, if◌then◌else◌, is_some, wrong, wrong', ProcId, byte_back}
use proofs.Names.{change_of, rises, LineSet, has_odd_parity, changes_phase, is_message_in, is_message_out, is_command}
use proofs.Names.{connection, connection_after, receiver_in, is_fault, bus, Row, Change, Connection, struck_same}
use proofs.Names.{Handshakes, handshakes_after, got_in, MsgIn, Dialogue, ScenarioValue, Obeys, Tag, reply_in, Reply}
use proofs.Names.{Process, Array, RowReading, row_reading, message_in, whole_in, area_with, CarriedBytes}
use proofs.Names.{is_status_phase, Item, process, Link, aim_of, is_status_next, one_message, no_messages}
use proofs.Names.{bytes_of_messages, begun, Serving, phase_of, phase_leaving, leaving_by, phase_byte, status_byte}
use proofs.Names.{first_plan, Ready, tag_named, Messages, Next, Phase, run_state_plain, IsPrompt, IsPlain, AreOfDevices}
use proofs.Names.{RunState, array_of, or_start, bus_of, item_of, process_item, process_served, carried_here, run_state}
use proofs.Names.{run_state_after, exchange_after, leaving_of, may_negotiate, messages_if, serving_of, task_of}
use proofs.Names.{ready_of, obeys_fits, seats_are, in_connection, reading_is, same_phase_is, requests_stay, AreGiven}
use proofs.Names.{Knows, RowKind, still, strikes, crosses, turns, GoesOn, RowOf, apart as row_apart, begins}
use proofs.Names.{goes_on as row_goes_on, ends as row_ends, under_reset, change_plain, least_is, EndLines}
use proofs.Names.{ends_reselected, BeginsConnection, by_selection, by_reselection, Linked, LinkStage, when_selected}
use proofs.Names.{when_settling, when_turning, when_offering, when_shaking, when_pulsing, byte_values, none_some}
use proofs.Names.{in_phase, is_status, by_bool, by_option, ConnectionRow, GoingRow, connection_row, going_row}
use proofs.Names.{stage_of_connection, RowKindOf, begins_now, goes_now, row_kind, IsFirst, Stood, NextStood, link_phase}
use proofs.Names.{replies_first, replies_next, is_marked, is_complete_in, AnsweredOpen, PlacedIn, PlacedIf, PlaceFacts}
use proofs.Names.{AreRepliesShown, FailsAsLeft, is_short, first_is, stays_as, IsGiven, IsStatusOffered, offered_by}
use proofs.Names.{OfferRow, offered_next, Crossing, status_crosses, is_attended, unbegun_lines, undo_asks, LastBy}
use proofs.Names.{Names, all, tag_alone, known, said, refused, Named, TellFacts, AreAll, IsStatusOf, IsStatusIn}
use proofs.{Names.{StatusAreas, CarriesBy, StatusTalks}, Closes.{Asks.{CompletesAsGiven}, Status.{offers_given}}}
use proofs.{Closes.{Status.{area_all, first_all}, Stays.{taking, said_then}}, Statuses.Carried.{Takes, IsAsked}}
use proofs.Statuses.{Carried.{areas_next, undo_next}, Replies.{no_link, reply_kept}, TalkTurns.{turn_talk}}
use proofs.Statuses.{Talks.{TalksOf, still_talk, out_talk, in_talk, else_talk}, Turns.{RunsWell, runs_well}}
use proofs.Statuses.Turns.{turned_status}
use Rattle.due_model.specs.array_model.proofs.SoundArrays.{id_is}

pub record StatusFacts (s : ScenarioValue) (p : List Row) : Type 0 where
  pub shown : AreRepliesShown s (run_state s p)
  pub areas : StatusAreas s (run_state s p)
  pub offered : (n : Connection) → connection p ≡ Some n → (bus p).rst ≡ false → IsStatusOffered s p n
  pub talks : (n : Connection) → connection p ≡ Some n → (bus p).rst ≡ false → StatusTalks (run_state s p)

pub status_start : (s : ScenarioValue) → StatusFacts s []
status_start s = record {
  shown = replies_first s;
  areas = record { areas = λ id. refl; undone = λ l u e f. none_some l e };
  offered = λ n e off. none_some n e;
  talks = λ n e off. none_some n e;
}

-- ---- as the initiator takes COMMAND COMPLETE

pub status_asks : (s : ScenarioValue) (p : List Row) (row : Row) → Obeys s → IsPrompt s (row ∷ p) → Stood s p
    → NextStood s p row → TellFacts s p → StatusFacts s p → CompletesAsGiven s (run_state s p) row
status_asks s p row o prompt was next facts h n c l g ep link done id reply served given = first_all reply.status
    (carried_here k id).status.bytes
    (subst (λ (x : Option Reply). IsStatusOf x (carried_here k id).status.bytes) given (h.areas.areas id)) (talk t.0).0
  where
    k : RunState
    k = run_state s p

    t : (k.exchange.plan.messages ≡ one_message MsgIn.CommandComplete) × (k.exchange.plan.next ≡ Next.FreeBus)
    t = said_then s p row n c l was facts.served facts.last g link done

    lines : is_message_in (bus_of k) ≡ true
    lines = ap is_message_in g.row_is.bus_is ∙ (taking k c l done).here

    begun_is : k.exchange.begun ≡ true
    begun_is = (g.phase (message_line (bus_of k).msg (bus_of k).cd (bus_of k).io lines)).1
      where
        message_line : (m d i : Bool) → (m && d && i) ≡ true → m ≡ true
        message_line true d i e = refl
        message_line false d i e = wrong' e

    talk : CarriesBy l (carried_here k id).status.bytes k.exchange.plan k.handshakes.requests Phase.MessageIn
    talk = subst (CarriesBy l (carried_here k id).status.bytes k.exchange.plan k.handshakes.requests)
        (in_phase (bus_of k) lines) (h.talks n (sym was.plain.connection ∙ g.row_is.connection_is)
        (sym (ap (λ (x : LineSet). x.rst) was.plain.bus) ∙ g.calm) l id link served begun_is)

-- ---- the lines of STATUS

status_phase : (b : LineSet) → is_status_phase b ≡ true → phase_of b ≡ Phase.Status
status_phase b e = go b.msg b.cd b.io e
  where
    go : (m d i : Bool) → (not m && d && i) ≡ true → (if m then (if i then Phase.MessageIn else Phase.MessageOut)
        else if d then (if i then Phase.Status else Phase.Command) else if i then Phase.DataIn else Phase.DataOut)
        ≡ Phase.Status
    go true d i z = wrong' z
    go false true true z = refl
    go false true false z = wrong' z
    go false false i z = wrong' z

status_io : (b : LineSet) → is_status_phase b ≡ true → b.io ≡ true
status_io b e = go b.msg b.cd b.io e
  where
    go : (m d i : Bool) → (not m && d && i) ≡ true → i ≡ true
    go true d i z = wrong' z
    go false true i z = z
    go false false i z = wrong' z

status_same : (c : Change) → changes_phase c ≡ false → is_status_phase c.after ≡ is_status_phase c.before
status_same c e = let w = same_phase_is c e in λ i. not (w.msg i) && w.cd i && w.io i

record HasEnds (s : ScenarioValue) (p : List Row) (n : Connection) : Type 0 where
  lines : EndLines
  linked : Linked p n lines

has_ends : (s : ScenarioValue) (p : List Row) (n : Connection) → LinkStage s p n → HasEnds s p n
has_ends s p n (when_selected h) = record { lines = _; linked = h.linked }
has_ends s p n (when_settling bsy atn msg cd io y h) = record { lines = _; linked = h.linked }
has_ends s p n (when_turning atn x msg cd h) = record { lines = _; linked = h.linked }
has_ends s p n (when_offering atn msg cd y h) = record { lines = _; linked = h.linked }
has_ends s p n (when_shaking msg cd io req ack atn x y h) = record { lines = _; linked = h.linked }
has_ends s p n (when_pulsing io req ack atn x y h a) = record { lines = _; linked = h.linked }

-- ---- what is known before a row

record Here (s : ScenarioValue) (p : List Row) (row : Row) : Type 0 where
  obeys : Obeys s
  prompt : IsPrompt s (row ∷ p)
  was : Stood s p
  next : NextStood s p row
  facts : TellFacts s p
  before : PlaceFacts s p
  after : PlaceFacts s (row ∷ p)
  fails : FailsAsLeft s p row
  statuses : StatusFacts s p

plain_of : (s : ScenarioValue) (p : List Row) (row : Row) → Here s p row → IsPlain s p (run_state s p)
plain_of s p row w = w.was.plain

below : (s : ScenarioValue) (p : List Row) (row : Row) → Here s p row → row.dev < 8
below s p row w = (least_is s p row w.prompt.1).inside

kept : (s : ScenarioValue) (p : List Row) (row : Row) → Here s p row
    → (id : ProcId) (reply : Reply) → reply_in (array_of s (run_state s p)).replies id ≡ Some reply
    → reply_in (array_of s (run_state s (row ∷ p))).replies id ≡ Some reply
kept s p row w id reply e = reply_kept s p row w.was w.next.row_is w.statuses.shown w.before w.after id reply e

-- In STATUS the process that is served has its reply.
record Given (s : ScenarioValue) (k : RunState) (id : ProcId) : Type 0 where
  reply : Reply
  is : reply_in (array_of s k).replies id ≡ Some reply

given_in : (s : ScenarioValue) (p : List Row) (n : Connection) (id : ProcId) → PlaceFacts s p
    → (run_state s p).story.bus_state.connection ≡ Some n → (bus_of (run_state s p)).rst ≡ false
    → (run_state s p).served ≡ Some (process id) → (run_state s p).exchange.begun ≡ true
    → phase_of (bus_of (run_state s p)) ≡ Phase.Status → Given s (run_state s p) id
given_in s p n id places con calm served b here =
    let k : RunState = run_state s p in
    let pr = places.of_scenario id served in
    let own : pr.0.id ≡ id = id_is s id pr.0 pr.1 in
    let at : process_served s k ≡ Some pr.0 = ap (process_item s) served ∙ pr.1 in
    let place : AnsweredOpen places.array pr.0.id = subst
    (λ (x : Phase). PlacedIn places.array pr.0 k.exchange.plan k.handshakes (bus_of k).atn x) here (subst
    (λ (x : Bool). PlacedIf x places.array pr.0 k.exchange.plan k.handshakes (bus_of k).atn (phase_of (bus_of k))) b
    (places.placed n con calm pr.0 at)) in
    record {
      reply = place.answered.reply;
      is = ap (λ (x : Array). reply_in x.replies id) (ap (or_start s) places.array_is)
          ∙ ap (λ (x : ProcId). reply_in places.array.replies x) (sym own) ∙ place.answered.given;
    }

-- The status that is due is that of the reply.
due_given : (s : ScenarioValue) (p : List Row) (n : Connection) (id : ProcId) (reply : Reply) → PlaceFacts s p
    → IsGiven s p id reply → status_byte (task_of s (run_state s p)) ≡ reply.status
due_given s p n id reply places given =
    let k : RunState = run_state s p in
    let pr = places.of_scenario id given.0 in
    let own : pr.0.id ≡ id = id_is s id pr.0 pr.1 in
    offers_given s k n.target pr.0 reply no_messages 0 0 (ap (process_item s) given.0 ∙ pr.1)
    (ap (λ (x : ProcId). reply_in (array_of s k).replies x) own ∙ given.1)

-- ---- a row of the connection

record RowHere (s : ScenarioValue) (p : List Row) (row : Row) (n : Connection) : Type 0 where
  con : connection p ≡ Some n
  off : (bus p).rst ≡ false
  row_is : ConnectionRow s p row n
  going : GoingRow s p row n
  ends : HasEnds s (row ∷ p) n

going_on : (s : ScenarioValue) (p : List Row) (row : Row) (n : Connection) → Here s p row → connection p ≡ Some n
    → (bus p).rst ≡ false → connection (row ∷ p) ≡ Some n → (bus (row ∷ p)).rst ≡ false → RowHere s p row n
going_on s p row n w con off after calm =
    let r = connection_row s p row n w.obeys w.prompt w.was con off calm in
    record {
      con = con;
      off = off;
      row_is = r;
      going = going_row s p row n w.was.standing.devices (below s p row w) con after calm w.next.row_is r.facts;
      ends = has_ends s (row ∷ p) n (stage_of_connection s (row ∷ p) n w.next.stood after calm);
    }

-- The byte of STATUS that crosses.
taken_byte : (s : ScenarioValue) (p : List Row) (row : Row) (n : Connection) (id : ProcId) (reply : Reply)
    (w : Here s p row) (g : RowHere s p row n) → IsGiven s p id reply → is_some (receiver_in n g.going.change) ≡ true
    → is_status_phase g.going.change.before ≡ true → g.going.change.after.data_bits % 256 ≡ reply.status
taken_byte s p row n id reply w g given cr st = ap (λ (x : Change). x.after.data_bits % 256) g.going.change_is
    ∙ ap (λ (x : ℕ). x % 256) (status_crosses s p row n g.ends.lines id reply
    (w.statuses.offered n g.con g.off) g.row_is.link g.ends.linked crossing)
    ∙ byte_back reply.status small
  where
    k : RunState
    k = run_state s p

    c : Change
    c = g.going.change

    on : c.before ≡ bus p
    on = ap (λ (x : Change). x.before) g.going.change_is

    rose : rises c.before.req c.after.req ≡ true
    rose = by_bool (rises c.before.req c.after.req) (λ e. e)
        (λ e. wrong' ((λ i. is_some (if sym (status_io c.before st) i then (if sym e i then Some n.initiator else None)
        else (if rises c.before.ack c.after.ack then Some n.target else None))) ∙ cr))

    crossing : Crossing s p row n id reply
    crossing = record {
      status = ap is_status_phase (sym on) ∙ st;
      rose = ap (λ (x : Change). rises x.before.req x.after.req) (sym g.going.change_is) ∙ rose;
      odd = ap (λ (x : Change). has_odd_parity x.after) (sym g.going.change_is)
          ∙ ap (λ (x : Change). has_odd_parity x.after) (sym g.going.lines_are)
          ∙ g.going.lines.odd (ap (λ (x : Change). is_some (receiver_in n x)) g.going.lines_are ∙ cr);
      given = given;
    }

    here : phase_of (bus_of k) ≡ Phase.Status
    here = status_phase (bus_of k) (ap is_status_phase g.going.goes.row_is.bus_is ∙ st)

    small : reply.status < 256
    small = subst (λ (x : ℕ). x < 256) (ap
        (λ (x : Phase). phase_byte (serving_of s k n.target) x k.exchange.plan.messages 0 k.handshakes.requests) here
        ∙ due_given s p n id reply w.before given)
        (byte_values s p n w.obeys (seats_are s (obeys_fits s w.obeys)) w.was.standing.devices).offered

-- What is asked of a row for the areas of all processes.
row_asked : (s : ScenarioValue) (p : List Row) (row : Row) → Here s p row
    → IsAsked (λ id bytes. IsStatusIn s (run_state s p) id bytes) (run_state s p) row
row_asked s p row w m n l er em en el = go w.next.row_is
  where
    k : RunState
    k = run_state s p

    d : RowReading
    d = row_reading k.story.bus_state row

    pl : IsPlain s p k
    pl = plain_of s p row w

    go : RowOf s k row → Takes (λ id bytes. IsStatusIn s k id bytes) k.story d l
    go (row_apart e f) = none_some m (sym e ∙ em)
    go (begins x b) = none_some m (sym b.first.connection_is ∙ em)
    go (row_ends x g) = none_some n (sym g.next_is ∙ en)
    go (under_reset r e) = wrong (sym r ∙ er)
    go (row_goes_on x c g) = record { status = status; undoes = λ o u eo parity eu. w.statuses.areas.undone l u el eu }
      where
        con : connection p ≡ Some x
        con = sym pl.connection ∙ g.row_is.connection_is

        off : (bus p).rst ≡ false
        off = sym (ap (λ (b : LineSet). b.rst) pl.bus) ∙ g.calm

        ch : d.change ≡ change_of p row
        ch = change_plain s row p w.was.standing.devices (below s p row w)

        after : connection (row ∷ p) ≡ Some x
        after = sym (run_state_plain s (row ∷ p) w.next.stood.standing.devices).connection
            ∙ ap (λ (y : RowReading). y.next) (reading_is k row x c (is_some (receiver_in x c)) g.row_is refl)

        calm : (bus (row ∷ p)).rst ≡ false
        calm = sym (ap (λ (y : Change). y.after.rst) ch) ∙ er

        on : RowHere s p row x
        on = going_on s p row x w con off after calm

        knows : Knows s k x
        knows = w.was.books.knows x g.row_is.connection_is g.calm

        same : on.going.change ≡ d.change
        same = on.going.change_is ∙ sym ch

        served : (id : ProcId) → l.item ≡ Some (process id) → k.served ≡ Some (process id)
        served id e = elim knows.item_is [ inl z ↦ sym z ∙ item | inr z ↦ none_some (process id) (sym z.1 ∙ item) ]
          where
            item : knows.link.item ≡ Some (process id)
            item = ap (λ (y : Link). y.item) (same_Some knows.link l (sym knows.link_is ∙ el)) ∙ e

        status : (id : ProcId) → l.item ≡ Some (process id) → d.crosses ≡ true → is_status_phase d.change.before ≡ true
            → IsStatusIn s k id (area_with (carried_here k id).status (d.change.after.data_bits % 256)).bytes
        status id e cr st =
            let here : phase_of (bus_of k) ≡ Phase.Status = status_phase (bus_of k)
            (ap is_status_phase (g.row_is.bus_is ∙ ap (λ (y : Change). y.before) (sym g.row_is.change_is)) ∙ st) in
            let v = given_in s p x id w.before g.row_is.connection_is g.calm (served id e) (g.begun cr) here in
            let crossed : is_some (receiver_in x on.going.change) ≡ true =
            ap (λ (y : Change). is_some (receiver_in x y)) (same ∙ g.row_is.change_is)
            ∙ sym (ap (λ (y : RowReading). y.crosses) (reading_is k row x c (is_some (receiver_in x c)) g.row_is refl))
            ∙ cr in
            let byte : d.change.after.data_bits % 256 ≡ v.reply.status =
            ap (λ (y : Change). y.after.data_bits % 256) (sym same) ∙ taken_byte s p row x id v.reply w on (
              served id e,
              v.is,
            ) crossed (ap (λ (y : Change). is_status_phase y.before) same ∙ st) in
            subst (λ (y : Option Reply). IsStatusOf y
            (area_with (carried_here k id).status (d.change.after.data_bits % 256)).bytes) (sym v.is)
            (subst (λ (y : ℕ). AreAll v.reply.status (area_with (carried_here k id).status y).bytes)
            (sym byte) (area_all v.reply.status (carried_here k id).status (subst
            (λ (y : Option Reply). IsStatusOf y (carried_here k id).status.bytes) v.is (w.statuses.areas.areas id))))

-- A reply that is given with the row is of a process that has carried none.
moved : (a b : Option Reply) (bytes : List ℕ) → ((reply : Reply) → a ≡ Some reply → b ≡ Some reply) → IsStatusOf a bytes
    → IsStatusOf b bytes
moved (Some x) b bytes f h = subst (λ (y : Option Reply). IsStatusOf y bytes) (sym (f x refl)) h
moved None None bytes f h = h
moved None (Some x) bytes f h = subst (AreAll x.status) (sym h) tt

areas_on : (s : ScenarioValue) (p : List Row) (row : Row) → Here s p row → StatusAreas s (run_state s (row ∷ p))
areas_on s p row w = record {
  areas = λ id. on id (carried_here j id).status.bytes
      (areas_next q s k row (row_asked s p row w) w.statuses.areas.areas id);
  undone = undone;
}
  where
    k : RunState
    k = run_state s p

    j : RunState
    j = run_state s (row ∷ p)

    q : ProcId → List ℕ → Type 0
    q = λ id bytes. IsStatusIn s k id bytes

    on : (id : ProcId) (bytes : List ℕ) → IsStatusIn s k id bytes → IsStatusIn s j id bytes
    on id bytes h = moved (reply_in (array_of s k).replies id) (reply_in (array_of s j).replies id) bytes
        (λ reply e. kept s p row w id reply e) h

    undone : (l : Link) (u : CarriedBytes) → j.story.link ≡ Some l → l.undo ≡ Some u
        → IsStatusIn s j u.id u.status.bytes
    undone l u el eu = by_option (row_reading k.story.bus_state row).next
        (λ e. none_some l (sym (no_link s (row ∷ p) w.next.stood e) ∙ el)) (λ n e. on u.id u.status.bytes
        (undo_next q s k row n e w.statuses.areas.areas w.statuses.areas.undone l u el eu))

-- ---- what the target drives

offers_row : (s : ScenarioValue) (p : List Row) (row : Row) (n : Connection) (w : Here s p row) → RowHere s p row n
    → connection (row ∷ p) ≡ Some n → (bus (row ∷ p)).rst ≡ false → OfferRow s p row
offers_row s p row n w g after calm =
    record { kept = had; due = λ id reply given. due_given s p n id reply w.before given; turned = turned }
  where
    k : RunState
    k = run_state s p

    j : RunState
    j = run_state s (row ∷ p)

    pl : IsPlain s p k
    pl = plain_of s p row w

    c : Change
    c = g.going.change

    of : GoesOn s k row n c
    of = g.going.goes

    served : (id : ProcId) → j.served ≡ Some (process id) → k.served ≡ Some (process id)
    served id e = sym (in_connection s k row n c (changes_phase c)
        (is_some (receiver_in n c)) (is_fault row.kind) of.row_is refl refl refl).served_is
        ∙ e

    had : is_status_phase (bus p) ≡ true → begun p ≡ true → (id : ProcId) (reply : Reply) → IsGiven s (row ∷ p) id reply
        → IsGiven s p id reply
    had st b id reply given =
        let mine = served id given.0 in
        let v = given_in s p n id w.before of.row_is.connection_is of.calm mine (pl.begun ∙ b)
        (status_phase (bus_of k) (ap is_status_phase pl.bus ∙ st)) in (
          mine,
          v.is ∙ ap (λ (x : Reply). Some x) (same_Some v.reply reply (sym (kept s p row w id v.reply v.is) ∙ given.1)),
        )

    changes : is_status_phase (bus p) ≡ false → is_status_phase (bus (row ∷ p)) ≡ true
        → (q : Bool) → changes_phase c ≡ q → changes_phase c ≡ true
    changes f t true e = e
    changes f t false e = wrong (sym t ∙ ap (λ (x : Change). is_status_phase x.after) (sym g.going.change_is)
        ∙ status_same c e ∙ ap (λ (x : Change). is_status_phase x.before) g.going.change_is ∙ f)

    silent : changes_phase c ≡ true → RowKind row n c → is_some (receiver_in n c) ≡ false
    silent e (still ef ep er) = wrong (sym e ∙ ep)
    silent e (strikes ef ep er) = wrong (sym e ∙ ep)
    silent e (crosses dev ef ep er) = wrong (sym e ∙ ep)
    silent e (turns ef ep er) = ap (λ (x : Option ℕ). is_some x) er

    turned : (bus p).io ≡ true → is_status_phase (bus p) ≡ false → is_status_phase (bus (row ∷ p)) ≡ true
        → (id : ProcId) (reply : Reply) → IsGiven s (row ∷ p) id reply → status_byte (task_of s k) ≡ reply.status
    turned io f t id reply given =
        turned_status s p row n c knows.link pr reply
        (record {
          before = w.before;
          after = w.after;
          shown = w.statuses.shown;
          row_is = of.row_is;
          turns = ep;
          silent = silent ep of.row_is.kind;
          link_is = knows.link_is;
          item_is = elim knows.item_is [ inl z ↦ inl z | inr z ↦ inr z.1 ];
          served_is = mine ∙ ap (λ (x : ProcId). Some (process x)) (sym own);
          process_is = at;
          to_initiator = ap (λ (x : Change). x.before.io) g.going.change_is ∙ io;
          status = ap (λ (x : Change). is_status_phase x.after) g.going.change_is ∙ t;
          well = well;
          kept = λ x e. kept s p row w pr.id x e;
        })
        (ap (λ (x : ProcId). reply_in (array_of s j).replies x) own ∙ given.1)
      where
        ep : changes_phase c ≡ true
        ep = changes f t (changes_phase c) refl

        knows : Knows s k n
        knows = w.was.books.knows n of.row_is.connection_is of.calm

        mine : k.served ≡ Some (process id)
        mine = served id given.0

        pr : Process
        pr = (w.before.of_scenario id mine).0

        own : pr.id ≡ id
        own = id_is s id pr (w.before.of_scenario id mine).1

        at : process_served s k ≡ Some pr
        at = ap (process_item s) mine ∙ (w.before.of_scenario id mine).1

        after_status : phase_of c.after ≡ Phase.Status
        after_status = status_phase c.after (ap (λ (x : Change). is_status_phase x.after) g.going.change_is ∙ t)

        begun_is : k.exchange.begun ≡ true
        begun_is = by_bool k.exchange.begun (λ e. e)
            (λ e. wrong (sym (sym (ap (λ (x : Change). is_message_out x.after) of.row_is.change_is)
            ∙ of.first (ap changes_phase of.row_is.change_is ∙ ep) e) ∙ out_none))
          where
            out_none : is_message_out c.after ≡ false
            out_none = lines c.after.msg c.after.cd c.after.io
                (ap (λ (x : Change). is_status_phase x.after) g.going.change_is ∙ t)
              where
                lines : (x d i : Bool) → (not x && d && i) ≡ true → (x && d && not i) ≡ false
                lines true d i z = wrong' z
                lines false d i z = refl

        v : Serving
        v = serving_of s k n.target

        to : is_status_next (phase_leaving v (bus_of k).atn (phase_of (bus_of k))).to ≡ true
        to = ap (λ (q : Bool). is_status_next (leaving_by v q (bus_of k)).to) (sym begun_is) ∙ ap is_status_next
            (g.going.lines.whereto (ap changes_phase g.going.lines_are ∙ ep) (sym pl.begun ∙ begun_is)
            ∙ ap (λ (x : Change). Some (phase_of x.after)) g.going.lines_are ∙ ap (λ (x : Phase). Some x) after_status)

        placed : PlacedIn w.before.array pr k.exchange.plan k.handshakes (bus_of k).atn (phase_of (bus_of k))
        placed = subst (λ (x : Bool). PlacedIf x w.before.array pr k.exchange.plan k.handshakes (bus_of k).atn
            (phase_of (bus_of k))) begun_is (w.before.placed n of.row_is.connection_is of.calm pr at)

        well : knows.link.item ≡ Some (process pr.id) → is_marked (carried_here k pr.id) ≡ false
            → RunsWell w.before.array pr (carried_here k pr.id)
        well named open_is = runs_well w.before.array pr (carried_here k pr.id) v k.handshakes (bus_of k).atn (bus_of k)
            (ap (λ (b : LineSet). b.io) pl.bus ∙ io) open_is to (w.fails n pr.id (record {
              stands = g.con;
              calm = g.off;
              calm_after = calm;
              begun = begun_is;
              leaves = inl (ap changes_phase of.row_is.change_is ∙ ep);
            }) (ap item_of knows.link_is ∙ named)) placed

offered_first : (s : ScenarioValue) (p : List Row) (row : Row) (n : Connection) → IsFirst s p row n
    → IsStatusOffered s (row ∷ p) n
offered_first s p row n f = go f.begins
  where
    go : BeginsConnection (row ∷ p) n → IsStatusOffered s (row ∷ p) n
    go (by_selection h) = λ e k b. wrong (sym b ∙ h.begun_is)
    go (by_reselection y h) =
        offered_by s (row ∷ p) n (ends_reselected y) h.linked (λ a z u some id reply given. wrong' a)

offered_on : (s : ScenarioValue) (p : List Row) (row : Row) → Here s p row
    → (n : Connection) → connection (row ∷ p) ≡ Some n → (bus (row ∷ p)).rst ≡ false → IsStatusOffered s (row ∷ p) n
offered_on s p row w n after calm = go (row_kind s p row n w.obeys w.prompt w.was after calm)
  where
    go : RowKindOf s p row n → IsStatusOffered s (row ∷ p) n
    go (begins_now alone f) = offered_first s p row n f
    go (goes_now con off) =
        let g = going_on s p row n w con off after calm in
        offered_next s p row n (w.statuses.offered n con off) g.row_is.link (offers_row s p row n w g after calm)

-- ---- COMMAND COMPLETE

named_other : (c : Process) (l : Link) (m : Messages) (count : ℕ) → Names c l m count → is_complete_in m.first ≡ false
named_other c l m count (all e f) = ap (λ (x : Messages). is_complete_in x.first) e
named_other c l m count (tag_alone x e f g) = ap (λ (y : Messages). is_complete_in y.first) f ∙ tagged c.tag e
  where
    tagged : (t : Tag) → tag_named t ≡ Some x → is_complete_in (Some x) ≡ false
    tagged Tag.Untagged z = absurd cc
    tagged _ z = ap is_complete_in (sym z)

-- After the first row of a connection it is not said.
first_other : (s : ScenarioValue) (p : List Row) (row : Row) (n : Connection)
    → AreOfDevices p → row.dev < 8 → connection p ≡ None → connection (row ∷ p) ≡ Some n
    → is_complete_in (run_state s (row ∷ p)).exchange.plan.messages.first ≡ false
first_other s p row n dv lt alone after =
    (λ i. is_complete_in (exchange_after s k row (row_reading k.story.bus_state row)
    (con i) (next i) (leaving_of s k k.story.bus_state.connection)).plan.messages.first)
    ∙ by n.reselected (ready_of s k n.target)
  where
    k : RunState
    k = run_state s p

    pl : IsPlain s p k
    pl = run_state_plain s p dv

    con : k.story.bus_state.connection ≡ None
    con = pl.connection ∙ alone

    next : (row_reading k.story.bus_state row).next ≡ Some n
    next = (λ i. connection_after (pl.connection i) (pl.call i) (change_plain s row p dv lt i) row) ∙ after

    by : (r : Bool) (x : Option Ready)
        → is_complete_in (first_plan r (not r && may_negotiate k n (aim_of k.story.aims n.initiator))
        (if r then messages_if x else no_messages)).messages.first ≡ false
    by false x = refl
    by true None = refl
    by true (Some x) = refl

talks_going : (s : ScenarioValue) (p : List Row) (row : Row) (n : Connection) → Here s p row → RowHere s p row n
    → connection (row ∷ p) ≡ Some n → (bus (row ∷ p)).rst ≡ false → StatusTalks (run_state s (row ∷ p))
talks_going s p row n w g after calm m id em ej bj = go of.row_is.kind
  where
    k : RunState
    k = run_state s p

    j : RunState
    j = run_state_after s k row

    c : Change
    c = g.going.change

    d : Dialogue
    d = k.story.bus_state.dialogue

    pl : IsPlain s p k
    pl = plain_of s p row w

    of : GoesOn s k row n c
    of = g.going.goes

    knows : Knows s k n
    knows = w.was.books.knows n of.row_is.connection_is of.calm

    l : Link
    l = knows.link

    served : k.served ≡ Some (process id)
    served = sym (in_connection s k row n c (changes_phase c) (is_some (receiver_in n c))
        (is_fault row.kind) of.row_is refl refl refl).served_is
        ∙ ej

    before : k.exchange.begun ≡ true → TalksOf k l id
    before b = w.statuses.talks n g.con g.off l id knows.link_is served b

    lines : (bus_of k).msg ≡ true → (bus_of k).cd ≡ true
    lines z = (of.phase z).0

    to_initiator_line : (b : LineSet) → is_attended (phase_of b) ≡ true → b.io ≡ true
    to_initiator_line b e = by b.msg b.cd b.io e
      where
        by : (x y i : Bool) → is_attended (if x then (if i then Phase.MessageIn else Phase.MessageOut)
            else if y then (if i then Phase.Status else Phase.Command) else if i then Phase.DataIn else Phase.DataOut)
            ≡ true → i ≡ true
        by x y true z = refl
        by true y false z = wrong' z
        by false true false z = wrong' z
        by false false false z = wrong' z

    unknown : {A : Type 0} (x : Link) → k.story.link ≡ Some x → l.item ≡ None → is_some x.item ≡ true → A
    unknown x e f z = wrong' (sym (ap (λ (o : Option Item). is_some o) f)
        ∙ ap (λ (y : Link). is_some y.item) (same_Some l x (sym knows.link_is ∙ e)) ∙ z)

    -- where COMMAND COMPLETE is said the initiator knows the process; and in STATUS
    item_is : (n.reselected ≡ true → l.item ≡ None → Named s k n → l.item ≡ Some (process id))
        → l.item ≡ Some (process id)
    item_is other = elim knows.item_is [ inl e ↦ e ∙ served | inr e ↦ other e.0 e.1 (w.facts.named n g.con g.off e.0) ]

    says : {A : Type 0} → k.exchange.plan.messages ≡ one_message MsgIn.CommandComplete
        → is_complete_in k.exchange.plan.messages.first ≡ false → A
    says e f = wrong (sym (ap (λ (x : Messages). is_complete_in x.first) e) ∙ f)

    completes : k.exchange.plan.messages ≡ one_message MsgIn.CommandComplete → l.item ≡ Some (process id)
    completes e = item_is other
      where
        other : n.reselected ≡ true → l.item ≡ None → Named s k n → l.item ≡ Some (process id)
        other re f (known x z named no_names) = unknown x z f named
        other re f (said q x naming into names whole) =
            says e (named_other q x k.exchange.plan.messages k.handshakes.requests names)
        other re f (refused q x naming out cause names) = says e (named_other q x k.exchange.plan.messages 0 names)

    in_status : phase_of (bus_of k) ≡ Phase.Status → l.item ≡ Some (process id)
    in_status e = item_is other
      where
        message_in_line : (b : LineSet) → phase_of b ≡ Phase.Status
            → (is_message_in b ≡ false) × (is_message_out b ≡ false)
        message_in_line b z = by b.msg b.cd b.io (ap is_status z)
          where
            by : (x y i : Bool) → is_status (if x then (if i then Phase.MessageIn else Phase.MessageOut)
                else if y then (if i then Phase.Status else Phase.Command)
                else if i then Phase.DataIn else Phase.DataOut) ≡ true
                → ((x && y && i) ≡ false) × ((x && y && not i) ≡ false)
            by true y true u = wrong' u
            by true y false u = wrong' u
            by false y i u = (refl, refl)

        other : n.reselected ≡ true → l.item ≡ None → Named s k n → l.item ≡ Some (process id)
        other re f (known x z named no_names) = unknown x z f named
        other re f (said q x naming into names whole) = wrong (sym into ∙ (message_in_line (bus_of k) e).0)
        other re f (refused q x naming out cause names) = wrong (sym out ∙ (message_in_line (bus_of k) e).1)

    begun_before : changes_phase c ≡ false → (now : Bool) → is_some (receiver_in n c) ≡ now → k.exchange.begun ≡ true
    begun_before ep now en = sym (stays_as s k row n c now of.row_is ep en).begun ∙ bj

    -- a byte of MESSAGE IN
    next_in : changes_phase c ≡ false → is_message_in c.before ≡ true → is_some (receiver_in n c) ≡ true
        → TalksOf j m id
    next_in ep into there =
        in_talk s k row n c l m id of.row_is ep there into knows.link_is em completes first (before b)
      where
        b : k.exchange.begun ≡ true
        b = begun_before ep true there

        given : AreGiven (bytes_of_messages k.exchange.plan.messages) d.half k.handshakes.requests
        given = (w.was.books.gives n of.row_is.connection_is of.calm).in_message_in b
            (ap is_message_in of.row_is.bus_is ∙ into)

        reads : message_in d c true ≡ whole_in (got_in (d.half ++ c.after.data_bits % 256 ∷ []))
        reads = λ i. if into i then whole_in (got_in (d.half ++ c.after.data_bits % 256 ∷ [])) else None

        first : k.exchange.plan.messages ≡ one_message MsgIn.CommandComplete → k.handshakes.requests ≡ 0
            → message_in d c true ≡ Some MsgIn.CommandComplete
        first e zero = reads ∙ first_is k.exchange.plan.messages d.half k.handshakes.requests
            (c.after.data_bits % 256) given zero (ap (λ (x : Messages). is_short x.first) e) (of.gives into there).0
            ∙ ap (λ (x : Messages). x.first) e

    go : RowKind row n c → TalksOf j m id
    go (still ef ep er) =
        let none : is_some (receiver_in n c) ≡ false = ap (λ (z : Option ℕ). is_some z) er in
        let i = in_connection s k row n c false false (is_fault row.kind) of.row_is ep none refl in
        still_talk s k row n c l m id of.row_is ep none knows.link_is em
        (λ e. ap (λ (x : Handshakes). x.requests) i.handshakes_is
        ∙ ap (λ (q : Bool). (handshakes_after q (Some n) c row.time k.handshakes).requests) ef
        ∙ requests_stay n c row.time k.handshakes ep
        (ap (λ (b : LineSet). b.io) (sym of.row_is.bus_is) ∙ to_initiator_line (bus_of k) e) er)
        (before (begun_before ep false none))
    go (strikes ef ep er) =
        let none : is_some (receiver_in n c) ≡ false = ap (λ (z : Option ℕ). is_some z) er in
        let i = in_connection s k row n c false false (is_fault row.kind) of.row_is ep none refl in
        still_talk s k row n c l m id of.row_is ep none knows.link_is em
        (λ e. ap (λ (x : Handshakes). x.requests) i.handshakes_is
        ∙ ap (λ (q : Bool). (handshakes_after q (Some n) c row.time k.handshakes).requests) ef
        ∙ struck_same c.before.io k.handshakes) (before (begun_before ep false none))
    go (crosses dev ef ep er) = by (is_message_out c.before) refl (is_message_in c.before) refl
      where
        there : is_some (receiver_in n c) ≡ true
        there = ap (λ (z : Option ℕ). is_some z) er

        by : (q : Bool) → is_message_out c.before ≡ q → (t : Bool) → is_message_in c.before ≡ t → TalksOf j m id
        by true e t f =
            out_talk s k row n c l m id of.row_is ep there e knows.link_is em (before (begun_before ep true there))
        by false e true f = next_in ep f there
        by false e false f =
            else_talk s k row n c l m id of.row_is ep there e f (λ z. ap (λ (b : LineSet). b.cd) (sym of.row_is.bus_is)
            ∙ lines (ap (λ (b : LineSet). b.msg) of.row_is.bus_is ∙ z)) knows.link_is in_status
    go (turns ef ep er) = turn_talk s k row n c l m id (record {
      goes = of;
      lines = ef;
      turns = ep;
      silent = er;
      link_is = knows.link_is;
      known = λ z. ap (λ (x : Change). x.after.cd) g.going.change_is
          ∙ (link_phase s (row ∷ p) n (stage_of_connection s (row ∷ p) n w.next.stood after calm)
          (ap (λ (x : Change). x.after.msg) (sym g.going.change_is) ∙ z)).0;
      idle = λ b. ap is_command pl.bus ∙ unbegun_lines s p n g.row_is.stage (sym pl.begun ∙ b);
      whereto = λ b. g.going.lines.whereto (ap changes_phase g.going.lines_are ∙ ep) (sym pl.begun ∙ b)
          ∙ ap (λ (x : Change). Some (phase_of x.after)) g.going.lines_are;
      speaks = w.was.books.speaks n of.row_is.connection_is of.calm;
    }) (λ b. g.going.lines.over (ap changes_phase g.going.lines_are ∙ ep) (sym pl.begun ∙ b))
        (λ b e. subst (LastBy l k.exchange.plan k.handshakes.requests k.story.bus_state.dialogue.is_last) e
        (((w.facts.last n g.con g.off).0 l id knows.link_is served).begun b)) em before

talks_on : (s : ScenarioValue) (p : List Row) (row : Row) → Here s p row → (n : Connection)
    → connection (row ∷ p) ≡ Some n → (bus (row ∷ p)).rst ≡ false → StatusTalks (run_state s (row ∷ p))
talks_on s p row w n after calm = go (row_kind s p row n w.obeys w.prompt w.was after calm)
  where
    j : RunState
    j = run_state s (row ∷ p)

    go : RowKindOf s p row n → StatusTalks j
    go (goes_now con off) = talks_going s p row n w (going_on s p row n w con off after calm) after calm
    go (begins_now alone f) = λ l id el ej b. at l (carried_here j id).status.bytes f.begins b
      where
        ql : IsPlain s (row ∷ p) j
        ql = run_state_plain s (row ∷ p) w.next.stood.standing.devices

        other : is_complete_in j.exchange.plan.messages.first ≡ false
        other = first_other s p row n w.was.standing.devices (below s p row w) alone after

        at : (l : Link) (bytes : List ℕ) → BeginsConnection (row ∷ p) n → j.exchange.begun ≡ true
            → CarriesBy l bytes j.exchange.plan j.handshakes.requests (phase_of (bus_of j))
        at l bytes (by_selection h) b = wrong (sym b ∙ ql.begun ∙ h.begun_is)
        at l bytes (by_reselection y h) b = subst (CarriesBy l bytes j.exchange.plan j.handshakes.requests)
            (sym (ap phase_of (ql.bus ∙ h.linked.stands.bus_is)))
            (λ e. wrong (sym (ap (λ (x : Messages). is_complete_in x.first) e) ∙ other))

-- ---- any row

some_array : (s : ScenarioValue) (p : List Row) → PlaceFacts s p → is_some (run_state s p).array ≡ true
some_array s p places = ap (λ (o : Option Array). is_some o) places.array_is

-- As a phase is left the code of a failure is as the target knows it.
pub status_next : (s : ScenarioValue) (p : List Row) (row : Row) → Obeys s → IsPrompt s (row ∷ p) → Stood s p
    → NextStood s p row → TellFacts s p → PlaceFacts s p → PlaceFacts s (row ∷ p) → FailsAsLeft s p row
    → StatusFacts s p → StatusFacts s (row ∷ p)
status_next s p row o prompt was next facts before after fails h =
    let w : Here s p row = record {
      obeys = o;
      prompt = prompt;
      was = was;
      next = next;
      facts = facts;
      before = before;
      after = after;
      fails = fails;
      statuses = h;
    } in
    record {
      shown = replies_next s (run_state s p) row (some_array s (row ∷ p) after)
          (undo_asks is_marked s p row was next facts.undo) h.shown;
      areas = areas_on s p row w;
      offered = λ n e calm. offered_on s p row w n e calm;
      talks = λ n e calm. talks_on s p row w n e calm;
    }
