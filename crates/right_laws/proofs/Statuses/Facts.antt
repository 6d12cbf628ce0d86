-- Of its status a process has carried one byte as COMMAND COMPLETE is taken, after any rows of a prompt trace (6.6.5,
-- 6.6.10, 6.6.19).
use Rattle.right_laws.proofs
use proofs.Names.{ℕ, ◌≡◌, ◌<◌, Bool, true, false, not, ◌&&◌, ◌%◌, ◌∙◌, List, [], ◌∷◌, ◌++◌, Option, Some, None, refl}
use proofs.Names.{sym, ap, subst, true≢false, if◌then◌else◌, is_some, wrong, wrong', ProcId, change_of, rises, LineSet}
use proofs.Names.{changes_phase, is_command, is_data, is_message_in, is_fault, connection, connection_after}
use proofs.Names.{receiver_in, bus, Row, Change, Connection, struck_same, Handshakes, handshakes_after, MsgIn}
use proofs.Names.{ScenarioValue, Obeys, reply_in, RowReading, row_reading, CarriedBytes, is_status_phase, area_with}
use proofs.Names.{carried_after_byte, is_completion, is_complete, process, Link, aim_of, Exchange, one_message}
use proofs.Names.{phase_of, first_plan, Next, Phase, run_state_plain, IsPrompt, IsPlain, AreOfDevices, RunState}
use proofs.Names.{array_of, bus_of, carried_here, run_state, run_state_after, exchange_after, first_exchange}
use proofs.Names.{leaving_of, may_negotiate, naming_of, in_connection, requests_stay, Knows, RowKind, still, strikes}
use proofs.Names.{crosses, turns, GoesOn, Begins, change_plain, least_is, none_some, in_phase, message_line, not_unless}
use proofs.Names.{ConnectionRow, GoingRow, connection_row, going_row, RowKindOf, begins_now, goes_now, row_kind, Stood}
use proofs.Names.{NextStood, frees_bus, AnsweredOpen, PlacedIn, beginning, stays_as, LastFacts, LastBy, TellFacts}
use proofs.{Names.{said_then, Load, load, StatusAtEnd, StatusBy, StatusTalks, StatusFacts}, Ran.Blocks.{lasting_by}}
use proofs.Ran.Crossings.{IsPlaced, placed_here, GoesSo, crossing_goes, here_goes, known_served, InBytes, in_command}
use proofs.Ran.{Crossings.{in_data, in_status, byte_phase}, Facts.{Known, undoes_of, here_is, given_stays}}
use proofs.{Ran.Lasting.{row_lasts}, Statuses.{Leavings.{is_status_next}, Same.{freeing}, Stays.{Given, Going}}}
use proofs.Statuses.{Stays.{talk_still, talk_crosses}, Turns.{talk_turns}}

-- ---- what has no reply

no_status : (c : CarriedBytes) (b : LineSet) (byte : ℕ) → is_status_phase b ≡ false
    → (carried_after_byte c b byte).status.bytes ≡ c.status.bytes
no_status c b byte e = go (is_command b) (is_data b) (is_status_phase b) e
  where
    go : (q r t : Bool) → t ≡ false
        → (if q then record c { command = area_with c.command byte; block = c.block ++ byte ∷ [] }
        else if r then record c { moved = area_with c.moved byte }
        else if t then record c { status = area_with c.status byte } else c).status.bytes ≡ c.status.bytes
    go true r t z = refl
    go false true t z = refl
    go false false true z = wrong z
    go false false false z = refl

empty_next : (s : ScenarioValue) (p : List Row) (row : Row) (h : Known s p row)
    → ((id : ProcId) → is_some (reply_in (array_of s (run_state s p)).replies id) ≡ false
    → (carried_here (run_state s p) id).status.bytes ≡ [])
    → (id : ProcId) → is_some (reply_in (array_of s (run_state s (row ∷ p))).replies id) ≡ false
    → (carried_here (run_state s (row ∷ p)) id).status.bytes ≡ []
empty_next s p row h f id none = stays ∙ f id before
  where
    k : RunState
    k = run_state s p

    b : LineSet
    b = (row_reading k.story.bus_state row).change.before

    before : is_some (reply_in (array_of s k).replies id) ≡ false
    before = not_unless (is_some (reply_in (array_of s k).replies id))
        (is_some (reply_in (array_of s (run_state s (row ∷ p))).replies id)) (given_stays s p row h id) none

    quiet : (l : Link) → k.story.link ≡ Some l → l.item ≡ Some (process id)
        → (row_reading k.story.bus_state row).crosses ≡ true → b.msg ≡ false → is_status_phase b ≡ false
    quiet l e item moves msg = by (crossing_goes s k row h.next.row_is moves)
      where
        by : GoesSo s k row → is_status_phase b ≡ false
        by w = go (byte_phase b msg)
          where
            g : GoesOn s k row w.connection w.change
            g = w.goes

            place : IsPlaced s k h.places.array id
            place = placed_here s k row w.connection w.change id h.places g
                (known_served s k row w.connection w.change l id h.was.books g e item) (g.begun moves)

            lines : bus_of k ≡ b
            lines = g.row_is.bus_is ∙ ap (λ (x : Change). x.before) (sym g.row_is.change_is)

            given : AnsweredOpen h.places.array place.process.id → ⊥
            given z = true≢false (sym (ap is_some z.answered.given)
                ∙ (λ i. is_some (reply_in (sym (here_is s p row h) i).replies (place.id_is i))) ∙ before)

            other : is_data b ≡ true → is_status_phase b ≡ false
            other d = go_lines b.msg b.cd b.io d
              where
                go_lines : (m x i : Bool) → (not m && not x) ≡ true → (not m && x && i) ≡ false
                go_lines true x i z = refl
                go_lines false true i z = wrong' z
                go_lines false false i z = refl

            command : is_command b ≡ true → is_status_phase b ≡ false
            command d = go_lines b.msg b.cd b.io d
              where
                go_lines : (m x i : Bool) → (not m && x && not i) ≡ true → (not m && x && i) ≡ false
                go_lines true x i z = refl
                go_lines false true true z = wrong' z
                go_lines false true false z = refl
                go_lines false false i z = refl

            go : InBytes b → is_status_phase b ≡ false
            go (in_command e f) = command f
            go (in_data e f d) = other d
            go (in_status e f d x) = absurd (given (subst
                (λ (z : Phase). PlacedIn h.places.array place.process k.exchange.plan k.handshakes (bus_of k).atn z)
                (ap phase_of lines ∙ e) place.placed))

    stays : (carried_here (run_state s (row ∷ p)) id).status.bytes ≡ (carried_here k id).status.bytes
    stays = row_lasts (λ (c : CarriedBytes). (load c).status) (lasting_by (λ (x : Load). x.status)) s k row id
        (λ l e item moves msg. no_status (carried_here k id) b
        ((row_reading k.story.bus_state row).change.after.data_bits % 256) (quiet l e item moves msg))
        (λ l m u e out parity undo same. ap (λ (x : Load). x.status) (undoes_of s p row h l m u e out parity undo)
        ∙ ap (λ (x : ProcId). (carried_here k x).status.bytes) same)

-- ---- before any row, and the first row of a connection

pub status_start : (s : ScenarioValue) → StatusFacts s []
status_start s = record { empty = λ id e. refl; talks = λ n e off. none_some n e }

first_talks : (s : ScenarioValue) (p : List Row) (row : Row) (n : Connection) (h : Given s p row) → AreOfDevices p
    → row.dev < 8 → connection p ≡ None → connection (row ∷ p) ≡ Some n → (bus (row ∷ p)).rst ≡ false
    → StatusTalks (run_state s (row ∷ p))
first_talks s p row n h dv lt alone after calm id served begun = go n.reselected refl
  where
    k : RunState
    k = run_state s p

    j : RunState
    j = run_state_after s k row

    pl : IsPlain s p k
    pl = run_state_plain s p dv

    c : (row_reading k.story.bus_state row).change ≡ change_of p row
    c = change_plain s row p dv lt

    con : k.story.bus_state.connection ≡ None
    con = pl.connection ∙ alone

    next : (row_reading k.story.bus_state row).next ≡ Some n
    next = (λ i. connection_after (pl.connection i) (pl.call i) (c i) row) ∙ after

    off : (row_reading k.story.bus_state row).change.after.rst ≡ false
    off = ap (λ (x : Change). x.after.rst) c ∙ calm

    first : j.exchange ≡ first_exchange s k n (aim_of k.story.aims n.initiator)
    first = λ i. exchange_after s k row (row_reading k.story.bus_state row) (con i) (next i) (leaving_of s k (con i))

    begins_so : Begins s k row n
    begins_so = beginning s k row n con next off h.known.next.row_is

    go : (q : Bool) → n.reselected ≡ q
        → StatusBy (carried_here j id) j.exchange.plan j.handshakes.requests (phase_of (bus_of j))
    go false e = wrong (sym begun ∙ ap (λ (x : Exchange). x.begun) first ∙ e)
    go true e = subst (StatusBy (carried_here j id) j.exchange.plan j.handshakes.requests) (sym into) (
      record {
        completes = λ z. wrong (sym (freed z) ∙ ap frees_bus goes);
        again = λ z. wrong (sym (ap is_status_next z) ∙ ap is_status_next goes);
      },
      λ z some. wrong (sym (ap is_status_next z) ∙ ap is_status_next goes),
    )
      where
        goes : j.exchange.plan.next ≡ Next.GoOn
        goes = ap (λ (x : Exchange). x.plan.next) first
            ∙ ap (λ (q : Bool). (first_plan q (not n.reselected && may_negotiate k n (aim_of k.story.aims n.initiator))
            (naming_of s k n)).next) e

        into : phase_of (bus_of j) ≡ Phase.MessageIn
        into = in_phase (bus_of j) (begins_so.names e)

        stood : Knows s j n
        stood = h.known.next.stood.books.knows n next (off)

        freed : j.exchange.plan.messages ≡ one_message MsgIn.CommandComplete → frees_bus j.exchange.plan.next ≡ true
        freed z = freeing stood.link j.exchange.plan.messages j.exchange.plan.next j.handshakes.requests (subst
            (λ (x : Phase). LastBy stood.link j.exchange.plan j.handshakes.requests j.story.bus_state.dialogue.is_last
            x) into (((h.last n after calm).0 stood.link id stood.link_is served).begun begun)) z

-- ---- any row

pub status_next : (s : ScenarioValue) (p : List Row) (row : Row) → Obeys s → IsPrompt s (row ∷ p) → LastFacts s p
    → Given s p row → StatusFacts s (row ∷ p)
status_next s p row o prompt lasts h = record { empty = empty_next s p row h.known h.facts.empty; talks = talks }
  where
    k : RunState
    k = run_state s p

    j : RunState
    j = run_state_after s k row

    lt : row.dev < 8
    lt = (least_is s p row prompt.1).inside

    talks : (n : Connection) → connection (row ∷ p) ≡ Some n → (bus (row ∷ p)).rst ≡ false → StatusTalks j
    talks n after calm id served begun = go (row_kind s p row n o prompt h.known.was after calm)
      where
        go : RowKindOf s p row n
            → StatusBy (carried_here j id) j.exchange.plan j.handshakes.requests (phase_of (bus_of j))
        go (begins_now alone f) =
            first_talks s p row n h h.known.was.standing.devices lt alone after calm id served begun
        go (goes_now con off) = by g.goes.row_is.kind
          where
            r : ConnectionRow s p row n
            r = connection_row s p row n o prompt h.known.was con off calm

            g : GoingRow s p row n
            g = going_row s p row n h.known.was.standing.devices lt con after calm h.known.next.row_is r.facts

            same : j.served ≡ k.served
            same = (in_connection s k row n g.change (changes_phase g.change) (is_some (receiver_in n g.change))
                (is_fault row.kind) g.goes.row_is refl refl refl).served_is

            w : Going s p row n id
            w = record {
              given = h;
              row_of = r;
              going = g;
              con = con;
              off = off;
              after = after;
              calm = calm;
              below = lt;
              served = sym same ∙ served;
            }

            was : k.exchange.begun ≡ true
                → StatusBy (carried_here k id) k.exchange.plan k.handshakes.requests (phase_of (bus_of k))
            was q = h.facts.talks n con off id (sym same ∙ served) q

            staying : changes_phase g.change ≡ false → k.exchange.begun ≡ true
            staying ep =
                sym (stays_as s k row n g.change (is_some (receiver_in n g.change)) g.goes.row_is ep refl).begun ∙ begun

            by : RowKind row n g.change
                → StatusBy (carried_here j id) j.exchange.plan j.handshakes.requests (phase_of (bus_of j))
            by (still ef ep er) =
                let none : is_some (receiver_in n g.change) ≡ false = ap (λ (z : Option ℕ). is_some z) er in
                let i = in_connection s k row n g.change false false (is_fault row.kind) g.goes.row_is ep none refl in
                talk_still s p row n id w ep none (λ io. ap (λ (x : Handshakes). x.requests) i.handshakes_is
                ∙ ap (λ (q : Bool). (handshakes_after q (Some n) g.change row.time k.handshakes).requests) ef
                ∙ requests_stay n g.change row.time k.handshakes ep io er) (was (staying ep))
            by (strikes ef ep er) =
                let none : is_some (receiver_in n g.change) ≡ false = ap (λ (z : Option ℕ). is_some z) er in
                let i = in_connection s k row n g.change false false (is_fault row.kind) g.goes.row_is ep none refl in
                talk_still s p row n id w ep none (λ io. ap (λ (x : Handshakes). x.requests) i.handshakes_is
                ∙ ap (λ (q : Bool). (handshakes_after q (Some n) g.change row.time k.handshakes).requests) ef
                ∙ struck_same g.change.before.io k.handshakes) (was (staying ep))
            by (crosses dev ef ep er) = talk_crosses s p row n id dev w ef ep er (was (staying ep))
            by (turns ef ep er) = talk_turns s p row n id w ef ep er lasts was

-- ---- as COMMAND COMPLETE is taken

pub status_at_end : (s : ScenarioValue) (p : List Row) (row : Row) → Stood s p → NextStood s p row → TellFacts s p
    → StatusFacts s p → StatusAtEnd (run_state s p) row
status_at_end s p row was next told facts l id link item calm stands done =
    by (here_goes s k row l id (λ z. (told.items.items.apart z).0) next.row_is
    (record { link_is = link; item_is = item; calm = calm; stands = stands }))
  where
    k : RunState
    k = run_state s p

    d : RowReading
    d = row_reading k.story.bus_state row

    parts : (a b x y : Bool) → (a && b && x && not y) ≡ true → b ≡ true
    parts true true x y z = refl
    parts true false x y z = wrong' z
    parts false b x y z = wrong' z

    here : is_message_in d.change.before ≡ true
    here = parts (rises d.change.before.ack d.change.after.ack) (is_message_in d.change.before)
        (is_complete l.last) d.change.after.atn done

    by : GoesSo s k row → (status : ℕ) × ((carried_here k id).status.bytes ≡ status ∷ [])
    by w =
        let g = w.goes in
        let lines : is_message_in (bus_of k) ≡ true =
        ap is_message_in (g.row_is.bus_is ∙ ap (λ (x : Change). x.before) (sym g.row_is.change_is)) ∙ here in
        let begun = (g.phase (message_line (bus_of k) lines)).1 in
        let con : connection p ≡ Some w.connection = sym was.plain.connection ∙ g.row_is.connection_is in
        let off : (bus p).rst ≡ false = sym (ap (λ (x : LineSet). x.rst) was.plain.bus) ∙ g.calm in
        let served = known_served s k row w.connection w.change l id was.books g link item in
        let says = said_then s p row w.connection w.change l was told.served told.last g link
        (ap (is_completion l) (sym g.row_is.change_is) ∙ done) in
        (subst (StatusBy (carried_here k id) k.exchange.plan k.handshakes.requests) (in_phase (bus_of k) lines)
        (facts.talks w.connection con off id served begun)).0.completes says.0
