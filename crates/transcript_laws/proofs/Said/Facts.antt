-- In a connection that an initiator began its messages name the process: the opening, and no name after it. In one that
-- a target began they name none. The process is of the ends of the connection.
use Rattle.transcript_laws.proofs
use proofs.Names.{ℕ, ◌≡◌, ◌∙◌, Bool, true, false, not, ◌&&◌, ◌%◌, List, [], ◌∷◌, ◌++◌, Option, Some, None, refl, sym}
use proofs.Names.{ap, subst, append-nil, same_Some, is_some, if◌then◌else◌, wrong, wrong', and_true, ProcId, rises}
use proofs.Names.{LineSet, changes_phase, is_command, is_data, is_message_in, is_message_out, is_fault, connection}
use proofs.Names.{receiver_in, Change, Connection, Row, MsgIn, MsgOut, is_nil, ScenarioValue, CmdDef, command_at}
use proofs.Names.{process_by, process_if, process_of, message_in, message_out, is_status_phase, Item, Sent, process}
use proofs.Names.{abort, aim_of, Exchange, plan_anew, plan_after_message, struck_plan, cause_after, plan_in_message_out}
use proofs.Names.{host_answer, process_opening, Cause, Plan, host_of, opening, RunState, bus_of, process_item}
use proofs.Names.{run_state, served_after, item_if, hearing_of, leaving, ready_of, obeys_fits, units_are, AreUnits}
use proofs.Names.{InConnection, in_connection, reading_in, AreWordsFor, AreWordsHeard, IsSpeaking, opens, refuses}
use proofs.Names.{answers, rejects_data, rejects_status, is_selected, Begins, connected_bus, ends_selected, in_out}
use proofs.Names.{out_no_status, out_phase, plan_out, by_bool, link_unbegun, IsNext, is_abort, is_sense}
use proofs.Names.{is_next_command, aimed_next, beginning, calm_before, Whole, OpenedValue, held_part, is_complete}
use proofs.Names.{is_completion, with_part, with_fault, with_in_if, phase_entered, phase_over, phase_parts, data_parts}
use proofs.{Names.{Part, are_talk, base_parts, out_parts, parts_now}, Opened.Bytes.{CrossingMade, crossed_out}}
use proofs.Opened.Bytes.{crossed_in, crossed_status, crossed_else, crossing_made, lines_same, out_same, begun_same}
use proofs.Opened.{Bytes.{begun_turned, begun_crossing}, Facts.{OpenedAll, all_hold}, Rows.{Going, Starts, Holds}}
use proofs.{Opened.Rows.{RowMade, made_still, made_crossing, made_turn, plain_before}, Parts.Base.{base_more}}
use proofs.{Parts.{Base.{base_turned}, Lists.{broken_parts}}, Said.Naming.{outs_of, outs_append, outs_base, outs_now}}
use proofs.Said.{Naming.{are_mild, mild_more, mild_front, offers_mild, IsOpening, opening_more}, Out.{process_said}}
use proofs.Said.{Out.{said_one, offers_if, unit_small}, Words.{SaidWords, said_of, said_append, left_half}}
use proofs.{Serving.TurnSteps.{outs_talk}, Talks.Named.{base_talk, talk_more}}
use Rattle.due_model.specs.array_model.specs.Processes.{Process}

-- ---- what is kept

-- A MESSAGE OUT phase is none of the opening.
pub record IsOpened (k : RunState) : Type 0 where
  pub begun : k.exchange.begun ≡ true
  pub cause : is_message_out (bus_of k) ≡ true → is_selected k.exchange.plan.cause ≡ false

-- The opening is to come, or is said; or it was.
pub data OutNames (q : Process) (k : RunState) (o : OpenedValue) : Type 0 where
  unsaid : outs_of (base_parts o) ≡ [] → are_talk (base_parts o) ≡ true
      → (k.exchange.begun ≡ true → (is_message_out (bus_of k) ≡ true) × (k.exchange.plan.cause ≡ Cause.Selected))
      → OutNames q k o
  told : IsOpening q (outs_of (base_parts o)) → IsOpened k → OutNames q k o

pub record NoNames (k : RunState) (o : OpenedValue) : Type 0 where
  pub mild : are_mild (outs_of (base_parts o)) ≡ true
  pub opened : IsOpened k

pub record SaidNames (s : ScenarioValue) (k : RunState) (n : Connection) (o : OpenedValue) : Type 0 where
  pub all : OpenedAll k n o
  pub ends : (id : ProcId) (q : Process) → k.served ≡ Some (process id) → process_of s id ≡ Some q
      → (q.initiator ≡ n.initiator) × (q.target ≡ n.target)
  pub selected : n.reselected ≡ false → (id : ProcId) (q : Process) → k.served ≡ Some (process id)
      → process_of s id ≡ Some q → OutNames q k o
  pub again : n.reselected ≡ true → NoNames k o

-- ---- the messages of a row

outs_more : (o : OpenedValue) (part : Part) → outs_of (part ∷ []) ≡ []
    → outs_of (base_parts (with_part o part)) ≡ outs_of (base_parts o)
outs_more o part e = ap outs_of (base_more o part) ∙ outs_append (base_parts o) (part ∷ [])
    ∙ ap (λ (x : List MsgOut). outs_of (base_parts o) ++ x) e ∙ append-nil (outs_of (base_parts o))

outs_in : (o : OpenedValue) (into : Option MsgIn) → outs_of (base_parts (with_in_if o into)) ≡ outs_of (base_parts o)
outs_in o None = refl
outs_in o (Some m) = outs_base (with_in_if o (Some m)) ∙ append-nil (outs_of (o.parts ++ (held_part o.held ++ o.since)))
    ∙ outs_base (record o { said = [] }) ∙ sym (outs_base o)

pub outs_same : (k : RunState) (row : Row) (n : Connection) (c : Change) (o after : OpenedValue)
    → RowMade k row n c o after → changes_phase c ≡ false → outs_of (base_parts after) ≡ outs_of (base_parts o)
outs_same k row n c o after (made_still ep none e) z =
    ap (λ (x : OpenedValue). outs_of (base_parts x)) e ∙ go (is_completion o k.story.bus_state.dialogue.half c)
  where
    go : (q : Bool) → outs_of (base_parts (if q then with_part o Part.Completion
        else with_fault o (is_fault row.kind && is_some k.story.bus_state.crossed))) ≡ outs_of (base_parts o)
    go true = outs_more o Part.Completion refl
    go false = refl
outs_same k row n c o after (made_crossing dev ep er e) z = go (crossing_made o after k.story.bus_state n c e)
  where
    go : CrossingMade o after k.story.bus_state.dialogue.is_last c.before (c.after.data_bits % 256)
        (message_out k.story.bus_state.dialogue c true) (message_in k.story.bus_state.dialogue c true)
        → outs_of (base_parts after) ≡ outs_of (base_parts o)
    go (crossed_out x f) =
        outs_base after ∙ ap (λ (y : OpenedValue). outs_of y.parts ++ outs_of y.since) f ∙ sym (outs_base o)
    go (crossed_in x y f) =
        ap (λ (v : OpenedValue). outs_of (base_parts v)) f ∙ outs_in o (message_in k.story.bus_state.dialogue c true)
    go (crossed_status x y w f) =
        ap (λ (v : OpenedValue). outs_of (base_parts v)) f ∙ outs_more o (Part.Status (c.after.data_bits % 256)) refl
    go (crossed_else x y w f) = ap (λ (v : OpenedValue). outs_of (base_parts v)) f
outs_same k row n c o after (made_turn ep none ef e) z = wrong (sym ep ∙ z)

outs_broken : (q : Bool) → outs_of (if q then Part.BrokenOff ∷ [] else []) ≡ []
outs_broken true = refl
outs_broken false = refl

outs_status : (q : Bool) → outs_of (if q then Part.StatusPhase ∷ [] else []) ≡ []
outs_status true = refl
outs_status false = refl

outs_data : (out : Bool) (bytes : List ℕ) → outs_of (data_parts out bytes) ≡ []
outs_data out [] = refl
outs_data out (b ∷ bytes) = refl

outs_phase : (o : OpenedValue) (b : LineSet) → outs_of (phase_parts o b true) ≡ []
outs_phase o b = go (is_command b) (is_data b)
  where
    go : (x y : Bool) → outs_of
        (if x then Part.Command o.bytes o.struck true ∷ [] else if y then data_parts (not b.io) o.bytes else []) ≡ []
    go true y = refl
    go false true = outs_data (not b.io) o.bytes
    go false false = refl

none_more : (xs ys : List Part) → outs_of ys ≡ [] → outs_of (xs ++ ys) ≡ outs_of xs
none_more xs ys e = outs_append xs ys ∙ ap (λ (x : List MsgOut). outs_of xs ++ x) e ∙ append-nil (outs_of xs)

pub outs_turned : (o after : OpenedValue) (c : Change) (half : List ℕ)
    → after ≡ phase_entered (phase_over o c.before half true) c.after
    → outs_of (base_parts after) ≡ outs_of (base_parts o) ++ o.said
outs_turned o after c half e =
    ap (λ (x : OpenedValue). outs_of (base_parts x)) e ∙ ap outs_of (base_turned o c.before c.after half)
    ∙ none_more ((parts_now o ++ broken_parts c.before half) ++ phase_parts o c.before true)
    (if is_status_phase c.after then Part.StatusPhase ∷ [] else []) (outs_status (is_status_phase c.after))
    ∙ none_more (parts_now o ++ broken_parts c.before half) (phase_parts o c.before true) (outs_phase o c.before)
    ∙ none_more (parts_now o) (broken_parts c.before half) (outs_broken (is_message_in c.before && not (is_nil half)))
    ∙ outs_now o

-- ---- what is said in a phase

-- The messages so far are the first ones of the words.
pub record IsFront (said words : List MsgOut) : Type 0 where
  pub more : List MsgOut
  pub is : words ≡ said ++ more

pub words_front : (k : RunState) (n : Connection) (o : OpenedValue) → SaidWords k n o
    → is_message_out (bus_of k) ≡ true → AreWordsHeard k.exchange.speech k.exchange.plan k.story.bus_state.dialogue
    → IsFront o.said (said_of [] k.exchange.speech.words)
words_front k n o w here h = go k.story.bus_state.dialogue.is_last refl
  where
    go : (q : Bool) → k.story.bus_state.dialogue.is_last ≡ q → IsFront o.said (said_of [] k.exchange.speech.words)
    go true e = record { more = []; is = sym (w.whole here e) ∙ sym (append-nil o.said) }
    go false e = record {
      more = said_of (left_half [] h.before) (h.byte ∷ h.rest);
      is = ap (λ (x : List ℕ). said_of [] x) h.words_are ∙ said_append [] h.before (h.byte ∷ h.rest)
          ∙ ap (λ (x : List MsgOut). x ++ said_of (left_half [] h.before) (h.byte ∷ h.rest))
          (sym (w.upto here e h.before (h.byte ∷ h.rest) h.words_are h.place_is));
    }

mild_words : (s : ScenarioValue) (n : Connection) (served : Option Item) (x : Exchange) (cause : Cause)
    → AreWordsFor s n served x cause → is_selected cause ≡ false → are_mild (said_of [] x.speech.words) ≡ true
mild_words s n served x _ (opens e) z = wrong z
mild_words s n served x _ (refuses e) z =
    ap (λ (w : List ℕ). are_mild (said_of [] w)) e ∙ ap are_mild (said_one MsgOut.ParityError tt)
mild_words s n served x _ (answers e) z = ap (λ (w : List ℕ). are_mild (said_of [] w)) e
    ∙ ap are_mild (said_one (MsgOut.Sdtr (host_answer (host_of s n.initiator) x.speech.asked)) tt)
mild_words s n served x _ (rejects_data e) z =
    ap (λ (w : List ℕ). are_mild (said_of [] w)) e ∙ ap are_mild (said_one MsgOut.DetectedError tt)
mild_words s n served x _ (rejects_status e) z =
    ap (λ (w : List ℕ). are_mild (said_of [] w)) e ∙ ap are_mild (said_one MsgOut.DetectedError tt)

pub opening_words : (s : ScenarioValue) (n : Connection) (served : Option Item) (x : Exchange) (cause : Cause)
    → AreWordsFor s n served x cause → cause ≡ Cause.Selected
    → x.speech.words ≡ opening s n.initiator x.plan.negotiates served
opening_words s n served x _ (opens e) z = e
opening_words s n served x _ _ z = wrong' (ap is_selected z)

pub opening_is : (s : ScenarioValue) (n : Connection) (x : Exchange) (cause : Cause) (served : Option Item)
    (id : ProcId) (q : Process) → AreUnits s → AreWordsFor s n served x cause → cause ≡ Cause.Selected
    → served ≡ Some (process id) → process_of s id ≡ Some q → IsOpening q (said_of [] x.speech.words)
opening_is s n x cause served id q u w z sv of = record {
  disc = not q.id.sense;
  rest = offers_if x.plan.negotiates (host_of s n.initiator);
  is = ap (λ (y : List ℕ). said_of [] y)
      (opening_words s n served x cause w z ∙ ap (opening s n.initiator x.plan.negotiates) sv
      ∙ ap (λ (y : Option Process). process_opening (host_of s n.initiator) x.plan.negotiates y) of)
      ∙ process_said (host_of s n.initiator) x.plan.negotiates q (unit_small s id q u of);
  mild = offers_mild x.plan.negotiates (host_of s n.initiator);
}

-- Of a state whose books hold.
pub record Speaking (s : ScenarioValue) (k : RunState) (n : Connection) (o : OpenedValue) : Type 0 where
  pub units : AreUnits s
  pub bytes : is_message_out (bus_of k) ≡ false → o.said ≡ []
  pub words : SaidWords k n o
  pub speaks : k.exchange.begun ≡ true → is_message_out (bus_of k) ≡ true
      → IsSpeaking s n k.served k.exchange k.story.bus_state.dialogue

pub mild_said : (s : ScenarioValue) (k : RunState) (n : Connection) (o : OpenedValue) → Speaking s k n o → IsOpened k
    → are_mild o.said ≡ true
mild_said s k n o h op = by_bool (is_message_out (bus_of k))
    (λ e. let sp = h.speaks op.begun e in let f = words_front k n o h.words e sp.heard in mild_front o.said f.more
    (ap are_mild (sym f.is) ∙ mild_words s n k.served k.exchange k.exchange.plan.cause sp.words_for (op.cause e)))
    (λ e. ap are_mild (h.bytes e))

-- ---- a phase of no opening stays one

selected_after : (b : LineSet) → is_selected (cause_after b) ≡ false
selected_after b = go (is_message_in b) b.cd
  where
    go : (x y : Bool) → is_selected (if x then Cause.InMessage else if y then Cause.InStatus else Cause.InData) ≡ false
    go true y = refl
    go false true = refl
    go false false = refl

pub same_cause : (s : ScenarioValue) (p : List Row) (row : Row) (n : Connection) (g : Going s p row n)
    → changes_phase g.going.change ≡ false
    → (run_state s (row ∷ p)).exchange.plan.cause ≡ (run_state s p).exchange.plan.cause
same_cause s p row n g ep = go (is_some (receiver_in n c)) refl
  where
    k : RunState
    k = run_state s p

    c : Change
    c = g.going.change

    go : (now : Bool) → is_some (receiver_in n c) ≡ now
        → (run_state s (row ∷ p)).exchange.plan.cause ≡ k.exchange.plan.cause
    go true er = ap (λ (x : Exchange). x.plan.cause)
        (in_connection s k row n c false true (is_fault row.kind) g.going.goes.row_is ep er refl).exchange_is
        ∙ by (is_message_out c.before) (hearing_of k row (reading_in k.story.bus_state n c true)).is_last
      where
        by : (q anew : Bool) → (if q
            then plan_after_message k.exchange.plan anew (hearing_of k row (reading_in k.story.bus_state n c true)).out
            else k.exchange.plan).cause ≡ k.exchange.plan.cause
        by true true = refl
        by true false = refl
        by false anew = refl
    go false er = ap (λ (x : Exchange). x.plan.cause)
        (in_connection s k row n c false false (is_fault row.kind) g.going.goes.row_is ep er refl).exchange_is
        ∙ by (is_fault row.kind && not c.before.io)
      where
        by : (q : Bool) → (if q then struck_plan k.exchange.plan else k.exchange.plan).cause ≡ k.exchange.plan.cause
        by true = refl
        by false = refl

opened_same : (s : ScenarioValue) (p : List Row) (row : Row) (n : Connection) (g : Going s p row n)
    → changes_phase g.going.change ≡ false → IsOpened (run_state s p) → IsOpened (run_state s (row ∷ p))
opened_same s p row n g ep h = record {
  begun = begun_same s p row n g ep ∙ h.begun;
  cause = λ z. ap is_selected (same_cause s p row n g ep) ∙ h.cause
      (sym (out_same (bus_of (run_state s p)) (bus_of (run_state s (row ∷ p))) (lines_same s p row n g ep)) ∙ z);
}

pub opened_turned : (s : ScenarioValue) (p : List Row) (row : Row) (n : Connection) (g : Going s p row n)
    → changes_phase g.going.change ≡ true → is_some (receiver_in n g.going.change) ≡ false
    → (run_state s p).exchange.begun ≡ true → IsOpened (run_state s (row ∷ p))
opened_turned s p row n g ep none b = record {
  begun = begun_turned s p row n g ep;
  cause = λ z. ap (λ (x : Exchange). is_selected x.plan.cause) i.exchange_is ∙ by z;
}
  where
    k : RunState
    k = run_state s p

    c : Change
    c = g.going.change

    i : InConnection s k row n c true false (is_fault row.kind)
    i = in_connection s k row n c true false (is_fault row.kind) g.going.goes.row_is ep none refl

    by : is_message_out (bus_of (run_state s (row ∷ p))) ≡ true
        → is_selected (if not (is_message_out c.after) then record (plan_anew k.exchange.plan) {
          messages = (leaving s k n.target).messages;
          next = (leaving s k n.target).next;
        } else if k.exchange.begun
        then plan_in_message_out (hearing_of k row (reading_in k.story.bus_state n c false)) k.exchange.plan
        else plan_anew k.exchange.plan).cause ≡ false
    by z =
        (λ t. is_selected (if not ((ap is_message_out (sym i.bus_is) ∙ z) t) then record (plan_anew k.exchange.plan) {
          messages = (leaving s k n.target).messages;
          next = (leaving s k n.target).next;
        }
        else if b t then plan_in_message_out (hearing_of k row (reading_in k.story.bus_state n c false)) k.exchange.plan
        else plan_anew k.exchange.plan).cause) ∙ selected_after c.before

-- The first phase is MESSAGE OUT, of the opening.
pub first_out : (s : ScenarioValue) (p : List Row) (row : Row) (n : Connection) (g : Going s p row n)
    → changes_phase g.going.change ≡ true → is_some (receiver_in n g.going.change) ≡ false
    → (run_state s p).exchange.begun ≡ false → (is_message_out (bus_of (run_state s (row ∷ p))) ≡ true)
    × ((run_state s (row ∷ p)).exchange.plan.cause ≡ Cause.Selected)
first_out s p row n g ep none b = (
  ap is_message_out i.bus_is ∙ out,
  ap (λ (x : Exchange). x.plan.cause) i.exchange_is ∙ by
      ∙ ((g.was.stood.books.speaks n g.going.goes.row_is.connection_is g.going.goes.calm).before_all b).cause_is,
)
  where
    k : RunState
    k = run_state s p

    c : Change
    c = g.going.change

    i : InConnection s k row n c true false (is_fault row.kind)
    i = in_connection s k row n c true false (is_fault row.kind) g.going.goes.row_is ep none refl

    out : is_message_out c.after ≡ true
    out = ap (λ (y : Change). is_message_out y.after) (sym g.going.goes.row_is.change_is)
        ∙ g.going.goes.first (ap changes_phase g.going.goes.row_is.change_is ∙ ep) b

    by : (if not (is_message_out c.after) then record (plan_anew k.exchange.plan) {
      messages = (leaving s k n.target).messages;
      next = (leaving s k n.target).next;
    } else if k.exchange.begun
        then plan_in_message_out (hearing_of k row (reading_in k.story.bus_state n c false)) k.exchange.plan
        else plan_anew k.exchange.plan).cause
        ≡ k.exchange.plan.cause
    by = ap (λ (x : Plan). x.cause) (plan_out (hearing_of k row (reading_in k.story.bus_state n c false))
        (leaving s k n.target) k.exchange.plan out b)

-- ---- row by row

pub speaking : (s : ScenarioValue) (p : List Row) (row : Row) (n : Connection) (g : Going s p row n) (o : OpenedValue)
    → OpenedAll (run_state s p) n o → Speaking s (run_state s p) n o
speaking s p row n g o h = record {
  units = units_are s (obeys_fits s g.obeys);
  bytes = h.bytes.said;
  words = h.words;
  speaks = (g.was.stood.books.speaks n g.going.goes.row_is.connection_is g.going.goes.calm).in_message_out;
}

-- Before the first phase and in the opening nothing but messages comes.
pub unsaid_same :
    (s : ScenarioValue) (p : List Row) (row : Row) (n : Connection) (g : Going s p row n) (o after : OpenedValue)
    → RowMade (run_state s p) row n g.going.change o after
    → changes_phase g.going.change ≡ false → is_message_in g.going.change.before ≡ false
    → (is_some (receiver_in n g.going.change) ≡ true → is_message_out g.going.change.before ≡ true)
    → are_talk (base_parts after) ≡ are_talk (base_parts o)
unsaid_same s p row n g o after (made_still ep none e) z no_in out = ap (λ (x : OpenedValue). are_talk (base_parts x)) e
    ∙ go (is_completion o (run_state s p).story.bus_state.dialogue.half c) refl
  where
    c : Change
    c = g.going.change

    half : List ℕ
    half = (run_state s p).story.bus_state.dialogue.half

    off : (a b x d f : Bool) → b ≡ false → (a && b && x && d && f) ≡ true → true ≡ false
    off true true x d f y w = y
    off true false x d f y w = sym w
    off false b x d f y w = sym w

    go : (q : Bool) → is_completion o half c ≡ q → are_talk (base_parts (if q then with_part o Part.Completion
        else with_fault o (is_fault row.kind && is_some (run_state s p).story.bus_state.crossed)))
        ≡ are_talk (base_parts o)
    go true w = wrong (off (rises c.before.ack c.after.ack) (is_message_in c.before) (is_complete o.held) (is_nil half)
        (not c.after.atn) no_in w)
    go false w = refl
unsaid_same s p row n g o after (made_crossing dev ep er e) z no_in out =
    go (crossing_made o after (run_state s p).story.bus_state n c e)
  where
    c : Change
    c = g.going.change

    here : is_message_out c.before ≡ true
    here = out (ap (λ (x : Option ℕ). is_some x) er)

    go : CrossingMade o after (run_state s p).story.bus_state.dialogue.is_last c.before
        (c.after.data_bits % 256) (message_out (run_state s p).story.bus_state.dialogue c true)
        (message_in (run_state s p).story.bus_state.dialogue c true)
        → are_talk (base_parts after) ≡ are_talk (base_parts o)
    go (crossed_out x f) =
        base_talk after ∙ ap (λ (y : OpenedValue). are_talk y.parts && are_talk y.since) f ∙ sym (base_talk o)
    go (crossed_in x y f) = wrong (sym here ∙ x)
    go (crossed_status x y w f) = wrong (sym here ∙ x)
    go (crossed_else x y w f) = wrong (sym here ∙ x)
unsaid_same s p row n g o after (made_turn ep none ef e) z no_in out = wrong (sym ep ∙ z)

-- MESSAGE OUT begins after a selection.
pub first_talk : (o after : OpenedValue) (c : Change) (half : List ℕ)
    → after ≡ phase_entered (phase_over o c.before half true) c.after → is_command c.before ≡ false
    → is_message_in c.before ≡ false → o.bytes ≡ [] → is_status_phase c.after ≡ false
    → are_talk (base_parts after) ≡ are_talk (base_parts o)
first_talk o after c half e no_command no_in no_bytes no_status =
    ap (λ (x : OpenedValue). are_talk (base_parts x)) e ∙ ap are_talk (base_turned o c.before c.after half)
    ∙ (λ t. are_talk (((parts_now o ++ (if no_in t && not (is_nil half) then Part.BrokenOff ∷ [] else []))
    ++ (if no_command t then Part.Command o.bytes o.struck true ∷ [] else if is_data c.before
    then data_parts (not c.before.io) (no_bytes t) else [])) ++ (if no_status t then Part.StatusPhase ∷ [] else [])))
    ∙ none_there (is_data c.before) (parts_now o) ∙ talk_more (base_parts o) (out_parts o.said)
    ∙ ap (λ (q : Bool). are_talk (base_parts o) && q) (outs_talk o.said) ∙ and_true (are_talk (base_parts o))
  where
    none_there : (q : Bool) (xs : List Part) → are_talk (((xs ++ []) ++ (if q then [] else [])) ++ []) ≡ are_talk xs
    none_there true xs = ap are_talk (append-nil ((xs ++ []) ++ []) ∙ append-nil (xs ++ []) ∙ append-nil xs)
    none_there false xs = ap are_talk (append-nil ((xs ++ []) ++ []) ∙ append-nil (xs ++ []) ∙ append-nil xs)

names_row :
    (s : ScenarioValue) (p : List Row) (row : Row) (n : Connection) (g : Going s p row n) (o after : OpenedValue)
    → RowMade (run_state s p) row n g.going.change o after → OpenedAll (run_state s p) n o → (id : ProcId) (q : Process)
    → (run_state s p).served ≡ Some (process id) → process_of s id ≡ Some q → OutNames q (run_state s p) o
    → OutNames q (run_state s (row ∷ p)) after
names_row s p row n g o after made h id q sv of was = by made was
  where
    k : RunState
    k = run_state s p

    j : RunState
    j = run_state s (row ∷ p)

    c : Change
    c = g.going.change

    on : bus_of k ≡ c.before
    on = g.going.goes.row_is.bus_is

    sp : Speaking s k n o
    sp = speaking s p row n g o h

    selected_lines : k.exchange.begun ≡ false → bus_of k ≡ connected_bus ends_selected
    selected_lines b =
        (plain_before s p row n g).bus ∙ link_unbegun s p n g.link.stage (sym (plain_before s p row n g).begun ∙ b)

    no_in : (b : Bool) → k.exchange.begun ≡ b
        → (k.exchange.begun ≡ true → (is_message_out (bus_of k) ≡ true) × (k.exchange.plan.cause ≡ Cause.Selected))
        → is_message_in c.before ≡ false
    no_in true b f = in_out c.before (ap is_message_out (sym on) ∙ (f b).0)
    no_in false b f = ap is_message_in (sym on) ∙ ap is_message_in (selected_lines b)

    same : changes_phase c ≡ false → OutNames q k o → OutNames q j after
    same ep (told a b) = told (subst (λ (x : List MsgOut). IsOpening q x) (sym (outs_same k row n c o after made ep)) a)
        (opened_same s p row n g ep b)
    same ep (unsaid a t f) = unsaid (outs_same k row n c o after made ep ∙ a)
        (unsaid_same s p row n g o after made ep (no_in k.exchange.begun refl f)
        (λ er. crossing (receiver_in n c) refl er) ∙ t) (λ b. let w = f (sym (begun_same s p row n g ep) ∙ b) in
        (out_same (bus_of k) (bus_of j) (lines_same s p row n g ep) ∙ w.0, same_cause s p row n g ep ∙ w.1))
      where
        crossing : (x : Option ℕ) → receiver_in n c ≡ x → is_some (receiver_in n c) ≡ true
            → is_message_out c.before ≡ true
        crossing None e er = wrong' (sym (ap (λ (y : Option ℕ). is_some y) e) ∙ er)
        crossing (Some dev) e er = ap is_message_out (sym on) ∙ (f (begun_crossing s p row n g dev e)).0

    turn : changes_phase c ≡ true → is_some (receiver_in n c) ≡ false
        → after ≡ phase_entered (phase_over o c.before k.story.bus_state.dialogue.half true) c.after → OutNames q k o
        → OutNames q j after
    turn ep none e (told a b) = told
        (subst (λ (x : List MsgOut). IsOpening q x) (sym (outs_turned o after c k.story.bus_state.dialogue.half e))
        (opening_more q (outs_of (base_parts o)) o.said a (mild_said s k n o sp b)))
        (opened_turned s p row n g ep none b.begun)
    turn ep none e (unsaid a t f) =
        by_bool k.exchange.begun (λ b. let w = f b in let out : is_message_out (bus_of k) ≡ true = w.0 in let last =
        (g.going.goes.leaves (ap changes_phase g.going.goes.row_is.change_is ∙ ep)).out (out_phase (bus_of k) out) in
        told (subst (λ (x : List MsgOut). IsOpening q x) (sym (outs_turned o after c k.story.bus_state.dialogue.half e
        ∙ ap (λ (x : List MsgOut). x ++ o.said) a ∙ h.words.whole out last))
        (opening_is s n k.exchange k.exchange.plan.cause k.served id q sp.units (sp.speaks b out).words_for w.1 sv of))
        (opened_turned s p row n g ep none b)) (λ b. let first = first_out s p row n g ep none b in
        let silent : o.said ≡ [] = h.bytes.said (ap is_message_out (selected_lines b)) in
        let i = in_connection s k row n c true false (is_fault row.kind) g.going.goes.row_is ep none refl in
        unsaid (outs_turned o after c k.story.bus_state.dialogue.half e ∙ (λ u. a u ++ silent u)) (first_talk o after c
        k.story.bus_state.dialogue.half e (ap is_command (sym on) ∙ ap is_command (selected_lines b)) (no_in false b f)
        (h.bytes.unbegun b) (out_no_status c.after (ap is_message_out (sym i.bus_is) ∙ first.0)) ∙ t) (λ z. first))

    by : RowMade k row n c o after → OutNames q k o → OutNames q j after
    by (made_still ep none e) = same ep
    by (made_crossing dev ep er e) = same ep
    by (made_turn ep none ef e) = turn ep none e

again_row :
    (s : ScenarioValue) (p : List Row) (row : Row) (n : Connection) (g : Going s p row n) (o after : OpenedValue)
    → RowMade (run_state s p) row n g.going.change o after → OpenedAll (run_state s p) n o → NoNames (run_state s p) o
    → NoNames (run_state s (row ∷ p)) after
again_row s p row n g o after made h was = by made
  where
    k : RunState
    k = run_state s p

    c : Change
    c = g.going.change

    same : changes_phase c ≡ false → NoNames (run_state s (row ∷ p)) after
    same ep = record {
      mild = ap are_mild (outs_same k row n c o after made ep) ∙ was.mild;
      opened = opened_same s p row n g ep was.opened;
    }

    by : RowMade k row n c o after → NoNames (run_state s (row ∷ p)) after
    by (made_still ep none e) = same ep
    by (made_crossing dev ep er e) = same ep
    by (made_turn ep none ef e) = record {
      mild = ap are_mild (outs_turned o after c k.story.bus_state.dialogue.half e) ∙ mild_more
          (outs_of (base_parts o)) o.said was.mild (mild_said s k n o (speaking s p row n g o h) was.opened);
      opened = opened_turned s p row n g ep none was.opened.begun;
    }

-- ---- the ends of a process

host_is : (s : ScenarioValue) (id : ProcId) (c : CmdDef) (q : Process) → command_at s.commands id.command ≡ Some c
    → process_of s id ≡ Some q → q.initiator ≡ c.host
host_is s id c q at of =
    sym (ap (λ (x : Process). x.initiator) (same_Some (process_by s id c) q (sym (ap (process_if s id) at) ∙ of)))
    ∙ by id.sense refl
  where
    by : (r : Bool) → id.sense ≡ r → (process_by s id c).initiator ≡ c.host
    by true f = ap (λ (x : Bool). (process_by s (record id { sense = x }) c).initiator) f
    by false f = ap (λ (x : Bool). (process_by s (record id { sense = x }) c).initiator) f

next_host : (s : ScenarioValue) (b : Sent) (dev : ℕ) (item : Item) (id : ProcId) (q : Process) → IsNext s b dev item
    → item ≡ process id → process_of s id ≡ Some q → q.initiator ≡ dev
next_host s b dev _ id q (is_abort m z) e of = absurd cc
next_host s b dev _ id q (is_sense m c at own there z) e of =
    host_is s id c q (ap (λ (x : ℕ). command_at s.commands x) (sym (ap (λ (x : Item). number x) e)) ∙ at) of ∙ own
  where
    number : Item → ℕ
    number (process x) = x.command
    number (abort x) = 0
next_host s b dev _ id q (is_next_command m time c at own z may none) e of =
    host_is s id c q (ap (λ (x : ℕ). command_at s.commands x) (sym (ap (λ (x : Item). number x) e)) ∙ at) of ∙ own
  where
    number : Item → ℕ
    number (process x) = x.command
    number (abort x) = 0

ends_first : (s : ScenarioValue) (p : List Row) (row : Row) (n : Connection) → Starts s p row n → Whole s (row ∷ p)
    → connection (row ∷ p) ≡ Some n → (id : ProcId) (q : Process) → (run_state s (row ∷ p)).served ≡ Some (process id)
    → process_of s id ≡ Some q → (q.initiator ≡ n.initiator) × (q.target ≡ n.target)
ends_first s p row n h now con id q sv of = by_bool n.reselected (λ re. let a = b.reselects re in
    let made : Some (process a.ready.process.id) ≡ Some (process id) = sym (ap item_if a.ready_is)
    ∙ sym (ap (λ (x : Bool). if x then item_if (ready_of s k n.target) else aim_of k.story.aims n.initiator) re)
    ∙ sym served ∙ sv in
    let same : a.process ≡ q = same_Some a.process q (sym a.process_is ∙ ap (process_item s) made ∙ of) in (
      ap (λ (x : Process). x.initiator) (sym same) ∙ a.initiator_is,
      ap (λ (x : Process). x.target) (sym same) ∙ a.target_is,
    )) (λ sel. let a = b.selects sel in let aim : Some a.item ≡ Some (process id) = sym a.aim_is
    ∙ sym (ap (λ (x : Bool). if x then item_if (ready_of s k n.target) else aim_of k.story.aims n.initiator) sel)
    ∙ sym served ∙ sv in let off = calm_before s p row n h.obeys h.prompt h.was.stood h.free con in
    let next = aimed_next s p row n h.free con sel (h.was.stood.called h.free off)
    (h.was.facts.items.aims h.free off) a.item a.aim_is in (
      next_host s k.story.sent n.initiator a.item id q next (same_Some a.item (process id) aim) of,
      a.target_is q (ap (process_item s) aim ∙ of),
    ))
  where
    k : RunState
    k = run_state s p

    b : Begins s k row n
    b = beginning s k row n h.alone h.next h.off now.rows_are.1

    served : (run_state s (row ∷ p)).served
        ≡ (if n.reselected then item_if (ready_of s k n.target) else aim_of k.story.aims n.initiator)
    served = λ i. served_after s k (h.alone i) (h.next i)

pub names_hold : (s : ScenarioValue) → Holds s (SaidNames s)
names_hold s = record {
  begins = λ p row n starts now con calm b out fresh. record {
    all = (all_hold s).begins p row n starts now con calm b out fresh;
    ends = ends_first s p row n starts now con;
    selected = λ sel id q sv of. unsaid refl refl (λ z. wrong' (sym (b ∙ sel) ∙ z));
    again = λ re. record { mild = refl; opened = record { begun = b ∙ re; cause = λ z. wrong' (sym out ∙ z) } };
  };
  goes_on = λ p row n g o after made h.
      let served : (run_state s (row ∷ p)).served ≡ (run_state s p).served = served_same p row n g in
      record {
        all = (all_hold s).goes_on p row n g o after made h.all;
        ends = λ id q sv of. h.ends id q (sym served ∙ sv) of;
        selected = λ sel id q sv of. names_row s p row n g o after made h.all id q (sym served ∙ sv) of
            (h.selected sel id q (sym served ∙ sv) of);
        again = λ re. again_row s p row n g o after made h.all (h.again re);
      };
}
  where
    served_same : (p : List Row) (row : Row) (n : Connection) (g : Going s p row n)
        → (run_state s (row ∷ p)).served ≡ (run_state s p).served
    served_same p row n g = (in_connection s (run_state s p) row n g.going.change (changes_phase g.going.change)
        (is_some (receiver_in n g.going.change)) (is_fault row.kind) g.going.goes.row_is refl refl refl).served_is
