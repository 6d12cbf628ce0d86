-- DATA IN is entered for a process that nothing has struck: after MESSAGE IN or COMMAND (6.1.8, 6.6.10).
use Rattle.trace_laws.proofs
use proofs.Names.{ℕ, ◌≡◌, Bool, true, false, ◌==◌, ◌∙◌, List, Option, Some, refl, sym, ap, inl, ◌<◌, ◌||◌, ◌∷◌, None}
use proofs.Names.{subst, if◌then◌else◌, is_some, wrong', wrong, or_true, ProcId, bus-fault, change_of, rises, LineSet}
use proofs.Names.{changes_phase, connection, is_fault, receiver, receiver_in, receiver_of, bus, Kind, Drives, Fault}
use proofs.Names.{Row, Change, Connection, Handshakes, first_of, handshakes, handshakes_after, no_handshakes}
use proofs.Names.{newest_struck_if, newest_struck, INITIATOR_DETECTED_ERROR, ScenarioValue, CarriedBytes, process, Link}
use proofs.Names.{Serving, message_out_leaving, phase_leaving, phase_of, Leaving, Phase, run_state_plain, IsPlain}
use proofs.Names.{AreOfDevices, RunState, carried_here, run_state, in_connection, IsRowIn, RowKind, still}
use proofs.Names.{strikes as fault_strikes, crosses, turns, data_in_lines, not_message_out, not_message_in, LinkRow}
use proofs.Names.{awaits, UndoesAnswers, code_if, any_struck, pulses_here, FailsBy, IsClear, SentTalk, WaitsFor}
use proofs.Failures.{Bytes.{SameFail, still_fails}, Crossed.{CrossedBooks}, Crossings.{in_none, out_none, quiet_same}}
use proofs.Failures.{Faults.{Struck, fault_crossed, fault_fails, fault_receives}, Turns.{is_sending, sends_clear}}
use proofs.{Runs.CountRows.{data_pulses_stay}, Sent.Requests.{InStep, asked_waits, first_struck, hands_after}}
use proofs.Sent.Requests.{last_struck, struck_on, waits_on, waits_struck}
use Rattle.story_laws.specs.link_laws.proofs.LeavingWays as ways

-- ---- MESSAGE OUT is not left for it

abbrev pub is_in_next : Option Phase → Bool
is_in_next (Some Phase.DataIn) = true
is_in_next _ = false

abbrev pub NotIn : Leaving → Type 0
NotIn l = is_in_next l.to ≡ false

not_in : {v : Serving} {l : Leaving} → ways.Leaves v false Phase.MessageOut l → NotIn l
not_in (ways.reads _ _ g _) = elim g [ ]
not_in _ = refl

out_not_in : (v : Serving) → NotIn (message_out_leaving v v.plan.cause)
out_not_in v = not_in (ways.leaves v false Phase.MessageOut)

-- ---- it is entered

pub enters_clear :
    (l : Link) (c : CarriedBytes) (v : Serving) (words : List ℕ) (count : ℕ) (attention : Bool) (phase : Phase)
    → (phase ≡ Phase.MessageIn → (count == 0) ≡ false) → FailsBy l c v.plan words count phase
    → (phase_leaving v attention phase).to ≡ Some Phase.DataIn → IsClear c
enters_clear l c v words count attention phase some h e =
    sends_clear l c v words count attention phase (record { some = some; answered = λ z. wrong' (out z) }) h
    (ap is_sending e)
  where
    out : phase ≡ Phase.MessageOut → false ≡ true
    out z =
        sym (out_not_in v) ∙ ap (λ (x : Phase). is_in_next (phase_leaving v attention x).to) (sym z)
        ∙ ap is_in_next e

-- ---- The code of the failure of the process that is served goes on with each row of DATA IN.

-- A row of DATA IN in which the phase stays; the initiator knows the process.
pub record DataRow (s : ScenarioValue) (p : List Row) (row : Row) (n : Connection) : Type 0 where
  pub before : connection p ≡ Some n
  pub after : connection (row ∷ p) ≡ Some n
  pub devices : AreOfDevices p
  pub below : row.dev < 8
  pub stays : changes_phase (change_of p row) ≡ false
  pub row_is : IsRowIn (run_state s p) row n (change_of p row)
  pub phase : phase_of (bus p) ≡ Phase.DataIn
  pub link : Link
  pub link_is : (run_state s p).story.link ≡ Some link
  pub item_is : (id : ProcId) → (run_state s p).served ≡ Some (process id) → link.item ≡ Some (process id)
  pub undoes : UndoesAnswers (run_state s p) row
  pub crossed : CrossedBooks (run_state s p)
  pub moves : LinkRow s p n row
  pub step : InStep (handshakes p) (pulses_here p) (change_of p row)

served_same : (s : ScenarioValue) (p : List Row) (row : Row) (n : Connection) → DataRow s p row n
    → (run_state s (row ∷ p)).served ≡ (run_state s p).served
served_same s p row n w = (in_connection s (run_state s p) row n (change_of p row) false
    (is_some (receiver_in n (change_of p row))) (is_fault row.kind) w.row_is w.stays refl refl).served_is

pulses_same : (s : ScenarioValue) (p : List Row) (row : Row) (n : Connection) → DataRow s p row n
    → pulses_here (row ∷ p) ≡ pulses_here p
pulses_same s p row n w =
    let lines = data_in_lines (bus p) w.phase in
    data_pulses_stay s p row n (change_of p row) w.devices w.below w.row_is w.stays lines.0 lines.1

-- ---- lines change

same_failure : (s : ScenarioValue) (p : List Row) (row : Row) (n : Connection) → DataRow s p row n
    → is_fault row.kind ≡ false → (id : ProcId) → (run_state s p).served ≡ Some (process id)
    → SameFail (carried_here (run_state s p) id) (carried_here (run_state s (row ∷ p)) id)
same_failure s p row n w ef id served = by w.row_is.kind
  where
    k : RunState
    k = run_state s p

    c : Change
    c = change_of p row

    msg : (bus p).msg ≡ false
    msg = (data_in_lines (bus p) w.phase).0

    by : RowKind row n c → SameFail (carried_here k id) (carried_here (run_state s (row ∷ p)) id)
    by (still e ep er) = still_fails s k row n c w.link w.row_is (ap (λ (z : Option ℕ). is_some z) er) w.link_is e id
    by (fault_strikes e ep er) = wrong (sym e ∙ ef)
    by (crosses dev e ep er) = quiet_same s k row n c w.link id
        (record { row_is = w.row_is; link_is = w.link_is; item_is = inl (w.item_is id served); undoes = w.undoes })
        (ap (λ (z : Option ℕ). is_some z) er) (out_none k c (not_message_out (bus p) msg))
        (in_none k c (not_message_in (bus p) msg))
    by (turns e ep er) = wrong (sym ep ∙ w.stays)

pub drives_on : (s : ScenarioValue) (p : List Row) (row : Row) (n : Connection) → DataRow s p row n
    → is_fault row.kind ≡ false → SentTalk s p → SentTalk s (row ∷ p)
drives_on s p row n w ef t = record {
  received = λ z. ap (λ (x : Handshakes). is_some (first_of x.waiting)) hand ∙ asked_waits (handshakes p)
      (pulses_here p) c row.time w.step (rose (rises c.before.req c.after.req) refl (sym receives ∙ z));
  waits = λ u.
      let v = sym (pulses_same s p row n w) ∙ u in
      subst (λ (x : Handshakes). WaitsFor x (awaits c.after)) (sym hand)
      (waits_on (handshakes p) (pulses_here p) c row.time w.step v (t.waits v));
  code = λ id served.
      let here = sym (served_same s p row n w) ∙ served in
      (same_failure s p row n w ef id here).failure ∙ t.code id here
      ∙ ap (λ (q : Bool). code_if q INITIATOR_DETECTED_ERROR)
      (sym (ap (λ (x : Handshakes). c.after.atn || any_struck x.waiting) hand
      ∙ struck_on (handshakes p) (pulses_here p) c row.time w.step t.waits));
}
  where
    c : Change
    c = change_of p row

    io : (bus p).io ≡ true
    io = (data_in_lines (bus p) w.phase).2

    hand : handshakes (row ∷ p) ≡ hands_after c row.time (handshakes p)
    hand = (λ i. handshakes_after (ef i) (w.after i) c row.time (handshakes p))
        ∙ ap (λ (q : Bool). if q then no_handshakes else hands_after c row.time (handshakes p)) w.stays

    receives : is_some (receiver (row ∷ p))
        ≡ is_some (if rises c.before.req c.after.req then Some n.initiator else None)
    receives = ap (λ (o : Option Connection). is_some (receiver_of o c)) w.before
        ∙ ap (λ (q : Bool). is_some (if q then (if rises c.before.req c.after.req then Some n.initiator else None)
        else (if rises c.before.ack c.after.ack then Some n.target else None))) io

    rose : (q : Bool) → rises c.before.req c.after.req ≡ q
        → is_some (if rises c.before.req c.after.req then Some n.initiator else None) ≡ true
        → rises c.before.req c.after.req ≡ true
    rose true e z = e
    rose false e z = wrong' (sym (ap (λ (q : Bool). is_some (if q then Some n.initiator else None)) e) ∙ z)

-- ---- a fault strikes

fault_bus : (p : List Row) (row : Row) → is_fault row.kind ≡ true → bus (row ∷ p) ≡ bus p
fault_bus p row e = go row.kind refl e
  where
    go : (kind : Kind) → row.kind ≡ kind → is_fault kind ≡ true → bus (row ∷ p) ≡ bus p
    go (Drives l) f z = wrong' z
    go (Fault bit) f z = bus-fault row p bit f

pub strikes_on : (s : ScenarioValue) (p : List Row) (row : Row) (n : Connection) → DataRow s p row n
    → is_fault row.kind ≡ true → SentTalk s p → SentTalk s (row ∷ p)
strikes_on s p row n w ef t = record {
  received = λ z. ap (λ (x : Handshakes). is_some (first_of x.waiting)) hand ∙ first_struck (handshakes p).waiting some;
  waits = λ u.
      subst (λ (x : Handshakes). WaitsFor x (awaits (bus (row ∷ p)))) (sym hand)
      (subst (λ (b : LineSet). WaitsFor (newest_struck (handshakes p)) (awaits b)) (sym (fault_bus p row ef))
      (waits_struck (handshakes p) (awaits (bus p)) (t.waits (sym (pulses_same s p row n w) ∙ u))));
  code = λ id served. (struck id (sym (served_same s p row n w) ∙ served)).1
      ∙ ap (λ (q : Bool). code_if q INITIATOR_DETECTED_ERROR)
      (sym (ap (λ (x : Handshakes). (bus (row ∷ p)).atn || any_struck x.waiting) hand
      ∙ ap (λ (q : Bool). (bus (row ∷ p)).atn || q) (last_struck (handshakes p).waiting some)
      ∙ or_true (bus (row ∷ p)).atn));
}
  where
    k : RunState
    k = run_state s p

    c : Change
    c = change_of p row

    pl : IsPlain s p k
    pl = run_state_plain s p w.devices

    some : is_some (first_of (handshakes p).waiting) ≡ true
    some = t.received (fault_receives s p row n ef w.moves)

    hand : handshakes (row ∷ p) ≡ newest_struck (handshakes p)
    hand = ap (λ (q : Bool). handshakes_after q (connection (row ∷ p)) c row.time (handshakes p)) ef
        ∙ ap (λ (q : Bool). newest_struck_if q (handshakes p)) (data_in_lines (bus p) w.phase).2

    none : RowKind row n c → is_some (receiver_in n c) ≡ false
    none (still e ep er) = ap (λ (z : Option ℕ). is_some z) er
    none (fault_strikes e ep er) = ap (λ (z : Option ℕ). is_some z) er
    none (crosses dev e ep er) = wrong (sym ef ∙ e)
    none (turns e ep er) = ap (λ (z : Option ℕ). is_some z) er

    struck : (id : ProcId) → k.served ≡ Some (process id)
        → ((carried_here (run_state s (row ∷ p)) id).struck ≡ (carried_here k id).struck)
        × ((carried_here (run_state s (row ∷ p)) id).failure ≡ Some INITIATOR_DETECTED_ERROR)
    struck id served = subst (λ (x : Phase). Struck (carried_here k id) (carried_here (run_state s (row ∷ p)) id) x)
        (ap phase_of pl.bus ∙ w.phase) (fault_fails s k row n c w.link id w.row_is (none w.row_is.kind) w.link_is
        (w.item_is id served) ef (fault_crossed s p row n pl ef w.moves) w.crossed.here)
