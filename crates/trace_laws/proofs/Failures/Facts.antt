-- The code of the failure of the process that is served, after any rows of a prompt trace.
use Rattle.trace_laws.proofs
use proofs.Names.{inl, inr, ℕ, ◌≡◌, ◌⊎◌, ◌<◌, Bool, true, false, ◌%◌, ◌∙◌, List, [], ◌∷◌, ◌++◌, length, Option, Some}
use proofs.Names.{None, refl, sym, ap, subst, same_Some, if◌then◌else◌, is_some, slice_index_or, wrong, wrong', ProcId}
use proofs.Names.{changes_phase, is_command, is_message_in, is_message_out, connection, is_fault, receiver_in, bus, Row}
use proofs.Names.{Change, Connection, struck_same, Handshakes, handshakes_after, INITIATOR_DETECTED_ERROR, got_in}
use proofs.Names.{MsgIn, Dialogue, ScenarioValue, Obeys, Tag, Process, RowReading, message_in, whole_in, Item, process}
use proofs.Names.{Link, bytes_of_messages, phase_of, parity_error, tag_named, Cause, Messages, Next, Phase, IsPrompt}
use proofs.Names.{IsPlain, RunState, bus_of, carried_here, run_state, run_state_after, is_message, in_connection}
use proofs.Names.{reading_is, heard_next, requests_stay, in_io, few_messages, AreGiven, Gives, OnMessage, OnMessages}
use proofs.Names.{LeavesWhole, Knows, RowKind, still, strikes, crosses, turns, Speaks, GoesOn, least_is, none_some}
use proofs.Names.{out_phase, in_phase, out_lines, by_bool, ConnectionRow, GoingRow, connection_row, going_row}
use proofs.Names.{stage_of_connection, Stood, NextStood, link_phase, is_marked, code_if, UndoesAnswers}
use proofs.Names.{refusal_offers_none, first_is, refuses_later, request_rises, front_length, unbegun_lines, in_of}
use proofs.Names.{undo_asks, Names, all, tag_alone, known, said, refused, Named, TellFacts, IsClear, UndoesClear, clear}
use proofs.{Names.{GivesFailure, FailTalk, FailTalks, FailFacts, FailsBy, SentAsLeft}, Failures.Crossed.{CrossedBooks}}
use proofs.Failures.{Crossed.{CrossedFacts}, Crossings.{else_fail, in_fail}, Faults.{fault_crossed}, Steps.{FailRow}}
use proofs.Failures.{Steps.{still_fail, struck_fail}, Turned.{LeftHere, turn_fail}, Words.{out_fail}}

-- ---- a name restores nothing

abbrev pub is_restore : MsgIn → Bool
is_restore MsgIn.RestorePointers = true
is_restore _ = false

abbrev pub RestoresNone : MsgIn → Type 0
RestoresNone m = is_restore m ≡ false

tag_restores : (t : Tag) → OnMessage RestoresNone (tag_named t)
tag_restores Tag.Untagged = tt
tag_restores _ = refl

names_restore : (c : Process) (l : Link) (m : Messages) (count : ℕ) → Names c l m count → OnMessages RestoresNone m
names_restore c l m count (all e f) =
    subst (λ (x : Messages). OnMessages RestoresNone x) (sym e) (refl, tag_restores c.tag)
names_restore c l m count (tag_alone x e f g) = subst (λ (y : Messages). OnMessages RestoresNone y) (sym f)
    (subst (OnMessage RestoresNone) e (tag_restores c.tag), tt)

-- ---- a row of the connection

record Going (s : ScenarioValue) (p : List Row) (row : Row) (n : Connection) : Type 0 where
  was : Stood s p
  facts : TellFacts s p
  crossed : CrossedBooks (run_state s p)
  con : connection p ≡ Some n
  off : (bus p).rst ≡ false
  plain : IsPlain s p (run_state s p)
  row_is : ConnectionRow s p row n
  going : GoingRow s p row n
  undoes : UndoesAnswers (run_state s p) row
  known : going.change.after.msg ≡ true → going.change.after.cd ≡ true
  code : changes_phase going.change ≡ true → (run_state s p).exchange.begun ≡ true
      → (id : ProcId) → (run_state s p).served ≡ Some (process id) → phase_of (bus_of (run_state s p)) ≡ Phase.DataIn
      → (carried_here (run_state s p) id).failure ≡ code_if (bus_of (run_state s p)).atn INITIATOR_DETECTED_ERROR

goes_fail : (s : ScenarioValue) (p : List Row) (row : Row) (n : Connection) → Going s p row n
    → FailTalks (run_state s p) → FailTalks (run_state s (row ∷ p))
goes_fail s p row n w h m id em ej = go of.row_is.kind
  where
    k : RunState
    k = run_state s p

    j : RunState
    j = run_state_after s k row

    c : Change
    c = w.going.change

    d : Dialogue
    d = k.story.bus_state.dialogue

    of : GoesOn s k row n c
    of = w.going.goes

    speaks : Speaks s k n
    speaks = w.was.books.speaks n of.row_is.connection_is of.calm

    gives : Gives k
    gives = w.was.books.gives n of.row_is.connection_is of.calm

    knows : Knows s k n
    knows = w.was.books.knows n of.row_is.connection_is of.calm

    l : Link
    l = knows.link

    served : k.served ≡ Some (process id)
    served = sym (in_connection s k row n c (changes_phase c) (is_some (receiver_in n c))
        (is_fault row.kind) of.row_is refl refl refl).served_is
        ∙ ej

    before : FailTalk k l (carried_here k id)
    before = h l id knows.link_is served

    lines : (bus_of k).msg ≡ true → (bus_of k).cd ≡ true
    lines z = (of.phase z).0

    into : phase_of (bus_of k) ≡ Phase.MessageIn → is_message_in c.before ≡ true
    into e = ap is_message_in (sym of.row_is.bus_is) ∙ in_of (bus_of k) e lines

    given : k.exchange.begun ≡ true → phase_of (bus_of k) ≡ Phase.MessageIn
        → AreGiven (bytes_of_messages k.exchange.plan.messages) d.half k.handshakes.requests
    given b e = gives.in_message_in b (in_of (bus_of k) e lines)

    unknown : {A : Type 0} (x : Link) → k.story.link ≡ Some x → l.item ≡ None → is_some x.item ≡ true → A
    unknown x e f z = wrong' (sym (ap (λ (o : Option Item). is_some o) f)
        ∙ ap (λ (y : Link). is_some y.item) (same_Some l x (sym knows.link_is ∙ e)) ∙ z)

    -- While the initiator does not know the process its names are said.
    naming : n.reselected ≡ true → Named s k n
    naming re = w.facts.named n w.con w.off re

    item_is : (l.item ≡ Some (process id)) ⊎ ((l.item ≡ None) × (is_message (phase_of (bus_of k)) ≡ true))
    item_is = elim knows.item_is [ inl e ↦ inl (e ∙ served) | inr e ↦ inr (e.1, at e.1 (naming e.0)) ]
      where
        at : l.item ≡ None → Named s k n → is_message (phase_of (bus_of k)) ≡ true
        at f (known x e z g) = unknown x e f z
        at f (said q x y on names whole) = ap is_message (in_phase (bus_of k) on)
        at f (refused q x y on cause names) = ap is_message (out_phase (bus_of k) on)

    row_of : FailRow s k row n c l id
    row_of = record { row_is = of.row_is; link_is = knows.link_is; item_is = item_is; undoes = w.undoes }

    -- ---- a byte of MESSAGE IN

    next_in : is_message_in c.before ≡ true → (there : is_some (receiver_in n c) ≡ true) → k.exchange.begun ≡ true
        → (dev : ℕ) → is_fault row.kind ≡ false → changes_phase c ≡ false → receiver_in n c ≡ Some dev
        → is_message_out c.before ≡ false → FailTalk j m (carried_here j id)
    next_in on there b dev ef ep er out = in_fail s k row n c l m id row_of ep there out here em b
        (ap (λ (x : Handshakes). x.requests)
        (in_connection s k row n c false true (is_fault row.kind) of.row_is ep there refl).handshakes_is
        ∙ ap (λ (q : Bool). (handshakes_after q (Some n) c row.time k.handshakes).requests) ef
        ∙ request_rises n c row.time dev k.handshakes ep (in_io c.before on) er
        (length (bytes_of_messages k.exchange.plan.messages)) byte.1 (few_messages k.exchange.plan.messages)) named
        (λ zero short. reads ∙ first_is k.exchange.plan.messages d.half k.handshakes.requests (c.after.data_bits % 256)
        (given b here) zero short byte.0) before
      where
        here : phase_of (bus_of k) ≡ Phase.MessageIn
        here = ap phase_of of.row_is.bus_is ∙ in_phase c.before on

        byte : (c.after.data_bits % 256
            ≡ slice_index_or (bytes_of_messages k.exchange.plan.messages) k.handshakes.requests 0)
            × (k.handshakes.requests < length (bytes_of_messages k.exchange.plan.messages)) × (k.exchange.begun ≡ true)
        byte = of.gives on there

        reads : message_in d c true ≡ whole_in (got_in (d.half ++ c.after.data_bits % 256 ∷ []))
        reads = λ i. if on i then whole_in (got_in (d.half ++ c.after.data_bits % 256 ∷ [])) else None

        no_restore : {A : Type 0} → OnMessages RestoresNone k.exchange.plan.messages
            → message_in d c true ≡ Some MsgIn.RestorePointers → A
        no_restore plain e =
            wrong (subst (OnMessage RestoresNone) (sym reads ∙ e) (heard_next RestoresNone k.exchange.plan.messages
            d.half k.handshakes.requests (c.after.data_bits % 256) gives.fit plain (given b here) byte.0 byte.1))

        named : message_in d c true ≡ Some MsgIn.RestorePointers → l.item ≡ Some (process id)
        named e = elim knows.item_is [ inl f ↦ f ∙ served | inr f ↦ at f.1 (naming f.0) ]
          where
            at : l.item ≡ None → Named s k n → l.item ≡ Some (process id)
            at f (known x g z q) = unknown x g f z
            at f (said q x y z names whole) =
                no_restore (names_restore q x k.exchange.plan.messages k.handshakes.requests names) e
            at f (refused q x y z cause names) = no_restore (names_restore q x k.exchange.plan.messages 0 names) e

    -- ---- a phase is left

    left : changes_phase c ≡ true → k.exchange.begun ≡ true → LeftHere k l id
    left ep b = record {
      named = elim knows.item_is [
        | inl e ↦ inl (e ∙ served)
        | inr e ↦ inr (at e.1 (naming e.0))
      ];
      code = w.code ep b id served;
      answered = answered;
      few = λ e. front_length (bytes_of_messages k.exchange.plan.messages) d.half k.handshakes.requests (given b e);
    }
      where
        leaves : LeavesWhole s k n
        leaves = of.leaves (ap changes_phase of.row_is.change_is ∙ ep)

        Left : Type 0
        Left = ((phase_of (bus_of k) ≡ Phase.MessageOut) × (k.exchange.plan.cause ≡ Cause.InMessage))
            ⊎ ((phase_of (bus_of k) ≡ Phase.MessageIn) × ((bus_of k).atn ≡ true))

        at : l.item ≡ None → Named s k n → Left
        at f (known x g z q) = unknown x g f z
        at f (refused q x y on cause names) = inl (out_phase (bus_of k) on, cause)
        at f (said q x y on names whole) =
            by_bool (bus_of k).atn
            (λ z. inr (here, z))
            (λ z. unknown x y.link_is f (whole (leaves.given here z)))
          where
            here : phase_of (bus_of k) ≡ Phase.MessageIn
            here = in_phase (bus_of k) on

        answered : phase_of (bus_of k) ≡ Phase.MessageOut
            → k.exchange.plan.cause ≡ Cause.InMessage → is_some k.exchange.plan.said.offer ≡ true
            → (k.exchange.plan.next ≡ Next.Command) × (k.exchange.speech.words ≡ parity_error → ⊥)
        answered e cause offer = (next (refuses_later s p n w.facts.offers w.con w.off b out cause), other)
          where
            out : is_message_out (bus_of k) ≡ true
            out = out_lines (bus_of k) e lines

            other : k.exchange.speech.words ≡ parity_error → ⊥
            other z = wrong' (sym (ap (λ o. is_some o) (refusal_offers_none k.exchange.speech k.exchange.plan d
                (speaks.in_message_out b out).heard (leaves.out e) z)) ∙ offer)

            next : (k.exchange.plan.next ≡ Next.Command) ⊎ (k.exchange.speech.words ≡ parity_error)
                → k.exchange.plan.next ≡ Next.Command
            next (inl z) = z
            next (inr z) = absurd (other z)

    go : RowKind row n c → FailTalk j m (carried_here j id)
    go (still ef ep er) =
        let none : is_some (receiver_in n c) ≡ false = ap (λ (z : Option ℕ). is_some z) er in
        let i = in_connection s k row n c false false (is_fault row.kind) of.row_is ep none refl in
        still_fail s k row n c l m id row_of ef ep none em (λ e. ap (λ (x : Handshakes). x.requests) i.handshakes_is
        ∙ ap (λ (q : Bool). (handshakes_after q (Some n) c row.time k.handshakes).requests) ef
        ∙ requests_stay n c row.time k.handshakes ep (in_io c.before (into e)) er) before
    go (strikes ef ep er) =
        let none : is_some (receiver_in n c) ≡ false = ap (λ (z : Option ℕ). is_some z) er in
        let i = in_connection s k row n c false false (is_fault row.kind) of.row_is ep none refl in
        let some = fault_crossed s p row n w.plain ef w.row_is.link in
        struck_fail s k row n c l m id row_of ef ep none some w.crossed.here em
        (w.crossed.begun some) (λ e. ap (λ (x : Handshakes). x.requests) i.handshakes_is
        ∙ ap (λ (q : Bool). (handshakes_after q (Some n) c row.time k.handshakes).requests) ef
        ∙ struck_same c.before.io k.handshakes) before
    go (crosses dev ef ep er) = by (is_message_out c.before) refl (is_message_in c.before) refl
      where
        there : is_some (receiver_in n c) ≡ true
        there = ap (λ (z : Option ℕ). is_some z) er

        begun : k.exchange.begun ≡ true
        begun = of.begun (ap (λ (x : RowReading). x.crosses) (reading_is k row n c true of.row_is there))

        by : (q : Bool) → is_message_out c.before ≡ q → (t : Bool) → is_message_in c.before ≡ t
            → FailTalk j m (carried_here j id)
        by true e t f = out_fail s k row n c l m id row_of of speaks ep there e em begun before
        by false e true f = next_in f there begun dev ef ep er e
        by false e false f =
            else_fail s k row n c l m id row_of ep there e f (λ z. absurd (no_in (sym f ∙ into z))) em begun before
          where
            no_in : false ≡ true → ⊥
            no_in z = cc
    go (turns ef ep er) =
        turn_fail s k row n c l m id
        (record {
          goes = of;
          lines = ef;
          turns = ep;
          silent = er;
          link_is = knows.link_is;
          known = w.known;
          idle = λ b. ap is_command w.plain.bus ∙ unbegun_lines s p n w.row_is.stage (sym w.plain.begun ∙ b);
          whereto = λ b. w.going.lines.whereto (ap changes_phase w.going.lines_are ∙ ep) (sym w.plain.begun ∙ b)
              ∙ ap (λ (x : Change). Some (phase_of x.after)) w.going.lines_are;
          speaks = speaks;
        })
        w.undoes (left ep) em before

-- ---- any row

pub fail_start : (s : ScenarioValue) → FailFacts s []
fail_start s n e calm = none_some n e

-- A connection that goes on.
pub fail_goes : (s : ScenarioValue) (p : List Row) (row : Row) (n : Connection) → Obeys s → IsPrompt s (row ∷ p)
    → Stood s p → NextStood s p row → TellFacts s p → CrossedFacts s p → SentAsLeft s p row → connection p ≡ Some n
    → (bus p).rst ≡ false → connection (row ∷ p) ≡ Some n → (bus (row ∷ p)).rst ≡ false → FailFacts s p
    → FailTalks (run_state s (row ∷ p))
fail_goes s p row n o prompt was next facts crossed sent con off after calm h =
    goes_fail s p row n
    (record {
      was = was;
      facts = facts;
      crossed = crossed n con off;
      con = con;
      off = off;
      plain = was.plain;
      row_is = r;
      going = g;
      undoes = undo_asks is_marked s p row was next facts.undo;
      known = λ z. ap (λ (x : Change). x.after.cd) g.change_is
          ∙ (link_phase s (row ∷ p) n (stage_of_connection s (row ∷ p) n next.stood after calm)
          (ap (λ (x : Change). x.after.msg) (sym g.change_is) ∙ z)).0;
      code = λ ep b id served. sent n id (record {
        stands = con;
        calm = off;
        calm_after = calm;
        begun = b;
        leaves = inl (ap changes_phase g.goes.row_is.change_is ∙ ep);
      }) served;
    }) (h n con off)
  where
    r : ConnectionRow s p row n
    r = connection_row s p row n o prompt was con off calm

    g : GoingRow s p row n
    g = going_row s p row n was.standing.devices (least_is s p row prompt.1).inside con after calm next.row_is r.facts

-- The first row of a connection, whose process nothing has struck.
pub fail_first : (k : RunState) (l : Link) (id : ProcId) → IsClear (carried_here k id) → UndoesClear l.undo
    → (k.exchange.begun ≡ true → (phase_of (bus_of k) ≡ Phase.MessageIn) × (k.exchange.plan.next ≡ Next.GoOn))
    → FailTalk k l (carried_here k id)
fail_first k l id h u at = record {
  unbegun = λ b. (h, u);
  begun = λ b. subst (FailsBy l (carried_here k id) k.exchange.plan k.exchange.speech.words k.handshakes.requests)
      (sym (at b).0) (subst (GivesFailure l (carried_here k id) k.exchange.plan k.handshakes.requests) (sym (at b).1)
      (clear h (inl u)));
}
