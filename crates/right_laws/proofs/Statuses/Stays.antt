-- What a process has carried of its status, as a phase of its connection goes on (6.4, 6.6.5, 6.6.10).
use Rattle.right_laws.proofs
use proofs.Names.{ℕ, ◌≡◌, ◌⊎◌, inl, inr, ◌<◌, Bool, true, false, not, ◌&&◌, ◌==◌, ◌%◌, ◌∙◌, List, [], ◌∷◌, ◌++◌, length}
use proofs.Names.{Option, Some, None, refl, sym, ap, subst, true≢false, same_Some, if◌then◌else◌, is_some}
use proofs.Names.{slice_index_or, wrong, wrong', ProcId, rises, LineSet, changes_phase, is_message_out, is_message_in}
use proofs.Names.{is_fault, connection, receiver_in, bus, Row, Change, Connection, Handshakes, handshakes_after, got_in}
use proofs.Names.{MsgIn, ScenarioValue, process_of, whole_in, message_out, message_in, Item, process, Link, one_message}
use proofs.Names.{bytes_of_messages, phase_of, Messages, Next, Phase, RunState, bus_of, carried_here, run_state}
use proofs.Names.{run_state_after, own_of, InConnection, in_connection, requests_rise, AreGiven, Knows, IsRowIn, GoesOn}
use proofs.Names.{counted_some, message_line, out_line, out_lines, out_in, zero_below, ConnectionRow, GoingRow, Stays}
use proofs.Names.{stays_as, in_of, empty_front, LastFacts, Named, NamedFacts, known, said, refused, load, HasOne}
use proofs.{Names.{IsSmall, IsReady, StatusBy, StatusFacts}, Ran.{Crossings.{IsPlaced, placed_here}, Facts.{Known}}}
use proofs.{Ran.{Facts.{undoes_of}, Undone.{loads_stay_in}}, Statuses.Areas.{area_stays, status_crosses, restore_whole}}
use proofs.Statuses.{Areas.{restore_crosses}, First.{status_first}, Leavings.{is_status_next}, Same.{says_as, asked_as}}
use proofs.Statuses.Same.{same_by, status_lines}

-- ---- what is known

pub record Given (s : ScenarioValue) (p : List Row) (row : Row) : Type 0 where
  pub known : Known s p row
  pub named : NamedFacts s p
  pub last : LastFacts s (row ∷ p)
  pub facts : StatusFacts s p

-- The initiator knows the process, outside the names of a reselection.
known_item : (s : ScenarioValue) (k : RunState) (n : Connection) (w : Knows s k n)
    → (n.reselected ≡ true → Named s k n) → is_message_out (bus_of k) ≡ false
    → (is_message_in (bus_of k) ≡ true → k.exchange.plan.next ≡ Next.GoOn → ⊥) → w.link.item ≡ k.served
known_item s k n w names out into = by w.item_is
  where
    by : (w.link.item ≡ k.served) ⊎ ((n.reselected ≡ true) × (w.link.item ≡ None)) → w.link.item ≡ k.served
    by (inl z) = z
    by (inr z) = go (names z.0)
      where
        go : Named s k n → w.link.item ≡ k.served
        go (known m e f g) = wrong' (sym (ap (λ (x : Option Item). is_some x)
            (ap (λ (x : Link). x.item) (same_Some m w.link (sym e ∙ w.link_is)) ∙ z.1)) ∙ f)
        go (said q m naming here nm whole) = absurd (into here naming.next_is)
        go (refused q m naming here cause nm) = wrong (sym here ∙ out)

-- ---- a phase goes on

pub record Going (s : ScenarioValue) (p : List Row) (row : Row) (n : Connection) (id : ProcId) : Type 0 where
  pub given : Given s p row
  pub row_of : ConnectionRow s p row n
  pub going : GoingRow s p row n
  pub con : connection p ≡ Some n
  pub off : (bus p).rst ≡ false
  pub after : connection (row ∷ p) ≡ Some n
  pub calm : (bus (row ∷ p)).rst ≡ false
  pub below : row.dev < 8
  pub served : (run_state s p).served ≡ Some (process id)

pub knows_of : (s : ScenarioValue) (p : List Row) (row : Row) (n : Connection) (id : ProcId) (h : Going s p row n id)
    → Knows s (run_state s p) n
knows_of s p row n id h = h.given.known.was.books.knows n h.going.goes.row_is.connection_is h.going.goes.calm

io_of : (b : LineSet) → (phase_of b ≡ Phase.Status) ⊎ (phase_of b ≡ Phase.MessageIn) → b.io ≡ true
io_of b (inl e) = (status_lines b e).2
io_of b (inr e) = go b.msg b.cd b.io (ap is_in e)
  where
    is_in : Phase → Bool
    is_in Phase.MessageIn = true
    is_in _ = false

    go : (m d i : Bool) → is_in (if m then (if i then Phase.MessageIn else Phase.MessageOut)
        else if d then (if i then Phase.Status else Phase.Command) else if i then Phase.DataIn else Phase.DataOut)
        ≡ true → i ≡ true
    go true d true z = refl
    go true d false z = wrong' z
    go false true true z = refl
    go false true false z = wrong' z
    go false false true z = wrong' z
    go false false false z = wrong' z

-- No byte crosses.
pub talk_still : (s : ScenarioValue) (p : List Row) (row : Row) (n : Connection) (id : ProcId) (h : Going s p row n id)
    → changes_phase h.going.change ≡ false → is_some (receiver_in n h.going.change) ≡ false
    → (h.going.change.before.io ≡ true
    → (run_state s (row ∷ p)).handshakes.requests ≡ (run_state s p).handshakes.requests)
    → StatusBy (carried_here (run_state s p) id) (run_state s p).exchange.plan
    (run_state s p).handshakes.requests (phase_of (bus_of (run_state s p)))
    → StatusBy (carried_here (run_state s (row ∷ p)) id) (run_state s (row ∷ p)).exchange.plan
    (run_state s (row ∷ p)).handshakes.requests (phase_of (bus_of (run_state s (row ∷ p))))
talk_still s p row n id h ep en requests talk =
    subst (StatusBy (carried_here j id) j.exchange.plan j.handshakes.requests) (sym stays.phase) (same_by
    (carried_here k id) (carried_here j id) k.exchange.plan j.exchange.plan k.handshakes.requests j.handshakes.requests
    (phase_of (bus_of k)) (loads_stay_in s k row n c false r en (λ z. wrong' z) (undoes_of s p row h.given.known) id)
    (area_stays s k row n c knows.link id r en knows.link_is) stays.plan
    (λ z. requests (ap (λ (b : LineSet). b.io) (sym r.bus_is) ∙ io_of (bus_of k) z)) talk)
  where
    k : RunState
    k = run_state s p

    j : RunState
    j = run_state_after s k row

    c : Change
    c = h.going.change

    r : IsRowIn k row n c
    r = h.going.goes.row_is

    knows : Knows s k n
    knows = knows_of s p row n id h

    stays : Stays s k row n c false
    stays = stays_as s k row n c false r ep en

-- A byte crosses.
pub talk_crosses :
    (s : ScenarioValue) (p : List Row) (row : Row) (n : Connection) (id : ProcId) (dev : ℕ) (h : Going s p row n id)
    → is_fault row.kind ≡ false → changes_phase h.going.change ≡ false → receiver_in n h.going.change ≡ Some dev
    → StatusBy (carried_here (run_state s p) id) (run_state s p).exchange.plan
    (run_state s p).handshakes.requests (phase_of (bus_of (run_state s p)))
    → StatusBy (carried_here (run_state s (row ∷ p)) id) (run_state s (row ∷ p)).exchange.plan
    (run_state s (row ∷ p)).handshakes.requests (phase_of (bus_of (run_state s (row ∷ p))))
talk_crosses s p row n id dev h ef ep er talk =
    subst (StatusBy (carried_here j id) j.exchange.plan j.handshakes.requests) (sym stays.phase) (by
    (phase_of (bus_of k)) refl (subst (StatusBy (carried_here k id) k.exchange.plan k.handshakes.requests) refl talk))
  where
    k : RunState
    k = run_state s p

    j : RunState
    j = run_state_after s k row

    c : Change
    c = h.going.change

    g : GoesOn s k row n c
    g = h.going.goes

    r : IsRowIn k row n c
    r = g.row_is

    there : is_some (receiver_in n c) ≡ true
    there = ap (λ (z : Option ℕ). is_some z) er

    knows : Knows s k n
    knows = knows_of s p row n id h

    stays : Stays s k row n c true
    stays = stays_as s k row n c true r ep there

    i : InConnection s k row n c false true false
    i = in_connection s k row n c false true false r ep there ef

    asked : c.before.io ≡ true → (j.handshakes.requests == 0) ≡ false
    asked io =
        ap (λ (x : Handshakes). x.requests == 0) i.handshakes_is
        ∙ ap (λ (q : Bool). (handshakes_after q (Some n) c row.time k.handshakes).requests == 0) ef
        ∙ ap (λ (x : ℕ). x == 0) (requests_rise n c row.time dev k.handshakes ep io er)
        ∙ counted_some k.handshakes.requests

    same : c.before.msg ≡ true → load (carried_here j id) ≡ load (carried_here k id)
    same msg = loads_stay_in s k row n c true r there (λ z. msg) (undoes_of s p row h.given.known) id

    rose : c.before.io ≡ true → rises c.before.req c.after.req ≡ true
    rose io = go (rises c.before.req c.after.req)
        (sym (ap (λ (q : Bool). if q then (if rises c.before.req c.after.req then Some n.initiator else None)
        else (if rises c.before.ack c.after.ack then Some n.target else None)) io) ∙ er)
      where
        no_device : {A : Type 0} → (let o : Option ℕ = None in o) ≡ Some dev → A
        no_device z = absurd cc

        go : (q : Bool) → (if q then Some n.initiator else None) ≡ Some dev → q ≡ true
        go true z = refl
        go false z = no_device z

    in_status : phase_of (bus_of k) ≡ Phase.Status
        → StatusBy (carried_here k id) k.exchange.plan k.handshakes.requests Phase.Status
        → StatusBy (carried_here j id) j.exchange.plan j.handshakes.requests Phase.Status
    in_status e t = (λ z. wrong (sym z ∙ asked lines.2), λ z. one)
      where
        here : (c.before.msg ≡ false) × (c.before.cd ≡ true) × (c.before.io ≡ true)
        here = status_lines c.before (ap phase_of (sym r.bus_is) ∙ e)

        lines : (c.before.msg ≡ false) × (c.before.cd ≡ true) × (c.before.io ≡ true)
        lines = here

        first : (k.handshakes.requests == 0) ≡ true
        first =
            ap (λ (x : Handshakes). x.requests == 0) h.given.known.was.plain.handshakes
            ∙ status_first s p row n h.given.known.was.standing.devices
            (record {
              msg = ap (λ (x : Change). x.before.msg) (sym h.going.change_is) ∙ lines.0;
              cd = ap (λ (x : Change). x.before.cd) (sym h.going.change_is) ∙ lines.1;
              io = ap (λ (x : Change). x.before.io) (sym h.going.change_is) ∙ lines.2;
              rose = ap (λ (x : Change). rises x.before.req x.after.req) (sym h.going.change_is) ∙ rose lines.2;
              lines = ef;
              after = h.after;
            }) h.row_of.link

        quiet : (is_message_out (bus_of k) ≡ false) × (is_message_in (bus_of k) ≡ false)
        quiet = (
          (λ z. (bus_msg z) && (bus_of k).cd && not (bus_of k).io),
          (λ z. (bus_msg z) && (bus_of k).cd && (bus_of k).io),
        )
          where
            bus_msg : (bus_of k).msg ≡ false
            bus_msg = ap (λ (b : LineSet). b.msg) r.bus_is ∙ lines.0

        item : knows.link.item ≡ Some (process id)
        item = known_item s k n knows (h.given.named n h.con h.off) quiet.0 (λ z w. true≢false (sym z ∙ quiet.1))
            ∙ h.served

        one : HasOne (carried_here j id)
        one = status_crosses s k row n c knows.link id r there knows.link_is item lines.0
            (λ z. not (lines.0 z) && lines.1 z && not (lines.2 z)) (λ z. not (lines.0 z) && not (lines.1 z))
            (λ z. not (lines.0 z) && lines.1 z && lines.2 z) (t.0 first)

    in_message : phase_of (bus_of k) ≡ Phase.MessageIn
        → StatusBy (carried_here k id) k.exchange.plan k.handshakes.requests Phase.MessageIn
        → StatusBy (carried_here j id) j.exchange.plan j.handshakes.requests Phase.MessageIn
    in_message e t = (
      says_as (carried_here k id) (carried_here j id) k.exchange.plan.messages
          j.exchange.plan.messages k.exchange.plan.next j.exchange.plan.next
          (same (message_line c.before here)) stays.plan.messages stays.plan.next t.0,
      λ z some. restored (sym stays.plan.next ∙ z),
    )
      where
        bus_here : is_message_in (bus_of k) ≡ true
        bus_here = in_of (bus_of k) e (λ m. (g.phase m).0)

        here : is_message_in c.before ≡ true
        here = ap is_message_in (sym r.bus_is) ∙ bus_here

        gives : (c.after.data_bits % 256
            ≡ slice_index_or (bytes_of_messages k.exchange.plan.messages) k.handshakes.requests 0)
            × (k.handshakes.requests < length (bytes_of_messages k.exchange.plan.messages)) × (k.exchange.begun ≡ true)
        gives = g.gives here there

        restored : k.exchange.plan.next ≡ Next.Status → IsReady (carried_here j id)
        restored z = restore_crosses s k row n c knows.link id r there knows.link_is item out into saved again.1
          where
            again : (k.exchange.plan.messages ≡ one_message MsgIn.RestorePointers) × IsSmall (carried_here k id)
            again = t.0.again z

            zero : k.handshakes.requests ≡ 0
            zero = zero_below k.handshakes.requests
                (subst (λ (m : Messages). k.handshakes.requests < length (bytes_of_messages m)) again.0 gives.1)

            given : AreGiven (bytes_of_messages k.exchange.plan.messages) k.story.bus_state.dialogue.half
                k.handshakes.requests
            given = (h.given.known.was.books.gives n r.connection_is g.calm).in_message_in gives.2 bus_here

            half : k.story.bus_state.dialogue.half ≡ []
            half = given.half_is ∙ ap (Rattle.trace_laws.specs.book_laws.specs.Listening.half_after [])
                (empty_front given.before (sym zero ∙ given.count_is))

            byte : c.after.data_bits % 256 ≡ slice_index_or (bytes_of_messages (one_message MsgIn.RestorePointers)) 0 0
            byte = gives.0 ∙ (λ x. slice_index_or (bytes_of_messages (again.0 x)) (zero x) 0)

            into : message_in k.story.bus_state.dialogue c true ≡ Some MsgIn.RestorePointers
            into = (λ x. if here x then whole_in (got_in (half x ++ byte x ∷ [])) else None) ∙ restore_whole

            out : message_out k.story.bus_state.dialogue c true ≡ None
            out = λ x. if out_in c.before here x then Rattle.due_model.specs.story_model.specs.BusState.whole_out
                (Rattle.due_model.specs.msg_grammar.specs.Messages.got_out
                (Rattle.due_model.specs.bus_phases.specs.Dialogue.fresh_bytes k.story.bus_state.dialogue
                ++ c.after.data_bits % 256 ∷ [])) else None

            item : knows.link.item ≡ Some (process id)
            item = known_item s k n knows (h.given.named n h.con h.off)
                (out_in (bus_of k) bus_here) (λ x w. true≢false (ap is_status_next (sym z ∙ w)))
                ∙ h.served

            place : IsPlaced s k h.given.known.places.array id
            place = placed_here s k row n c id h.given.known.places g h.served gives.2

            saved : (carried_here k id).status.saved ≡ 0
            saved = subst (λ (x : ProcId). (carried_here k x).status.saved ≡ 0) place.id_is (own_of s k place.process
                h.given.known.was.books.carry (ap (process_of s) place.id_is ∙ place.process_is)).status

    in_out : phase_of (bus_of k) ≡ Phase.MessageOut
        → StatusBy (carried_here k id) k.exchange.plan k.handshakes.requests Phase.MessageOut
        → StatusBy (carried_here j id) j.exchange.plan j.handshakes.requests Phase.MessageOut
    in_out e t = asked_as (carried_here k id) (carried_here j id) k.exchange.plan j.exchange.plan
        (same (ap (λ (b : LineSet). b.msg) (sym r.bus_is)
        ∙ out_line (bus_of k) (out_lines (bus_of k) e (λ m. (g.phase m).0)))) stays.plan t

    by : (phase : Phase) → phase_of (bus_of k) ≡ phase
        → StatusBy (carried_here k id) k.exchange.plan k.handshakes.requests phase
        → StatusBy (carried_here j id) j.exchange.plan j.handshakes.requests phase
    by Phase.Status e t = in_status e t
    by Phase.MessageIn e t = in_message e t
    by Phase.MessageOut e t = in_out e t
    by _ e t = tt
