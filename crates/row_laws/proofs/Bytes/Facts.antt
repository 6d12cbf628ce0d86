-- What the target plans to say are bytes, after any rows; and so what both ends of a connection say.
use Rattle.row_laws.proofs
use proofs.Names.{ℕ, ◌≡◌, ◌+◌, Bool, true, false, not, ◌&&◌, List, [], ◌∷◌, length, Option, Some, None, refl, ap, subst}
use proofs.Names.{arith, ◌<◌, ◌==◌, same_Some, AllByRecursion, ◌-◌, if◌then◌else◌, nat_lt, Event, ProcId, LineSet}
use proofs.Names.{changes_phase, is_message_out, is_message_in, Row, Agreement, Connection, AreBytes, out_bytes}
use proofs.Names.{in_bytes, MsgIn, MsgOut, ScenarioValue, IsHexLoad, IsHex, Obeys, FillDef, Load, LoadDef, Policy, Tag}
use proofs.Names.{TargetDef, step_sound, start_sound, Reply, Process, same_id, current_of, IsOwnRunning, AllOwnUnits}
use proofs.Names.{HasSeats, IsSound, RunningProcess, UnitState, unit_state_at, is_held, Array, starting_array, nexus_of}
use proofs.Names.{RowReading, row_reading, row_events_by, Item, process, abort, aim_of, policy_of, run_at}
use proofs.Names.{message_bytes, bytes_of_messages, no_messages, one_message, said_with, said_with_if, plan_anew}
use proofs.Names.{plan_anew_if, plan_after_message, struck_plan, Serving, phase_of, leaving_by, status_byte, data_byte}
use proofs.Names.{phase_byte, one_if, first_plan, plan_after, plan_in_phase, plan_in_message_out, plan_with_byte, Ready}
use proofs.Names.{ready_in, is_ready_before, first_ready, target_answer, tag_named, Hearing, Leaving, Messages, Phase}
use proofs.Names.{Plan, Task, host_of, AreOfDevices, RunState, array_of, bus_of, or_start, process_item, process_served}
use proofs.Names.{run_state, run_state_after, exchange_after, leaving_of, may_negotiate, messages_if}
use proofs.Names.{array_after_events, serving_of, hearing_of, leaving, reply_now, status_by, task_if, given_if}
use proofs.{Names.{since_of, seek_of, ready_at, ready_of, all_are, HasByteValues}, Bytes.Arrays.{IsByteLoad, HasBytes}}
use proofs.Bytes.Arrays.{HasBytesIf, HasByteCode, SendsBytes, IsByteListed, settles, step_bytes, start_bytes}
use proofs.Bytes.{Arrays.{context_small}, Blocks.{bytes_of_process, byte_small}, Codes.{HasCodes, row_codes, codes_on}}
use proofs.Bytes.{Codes.{no_codes}, Executions.{HasByteReply, gives_bytes}, SmallLines.{IsSmallTag, IsSmallTarget}}
use proofs.Bytes.{SmallLines.{HasSmallLines, small_lines}, Spoken.{small_append, HasByteHalves, halves_after, told_out}}
use proofs.Bytes.Spoken.{told_in, IsSmallAgreement, target_answer_small, host_small, target_small, IsSmallProcess}
use proofs.Bytes.Spoken.{process_small, HasByteWords, opening_small, words_on, offer_bytes}
use proofs.{Common.Impossible.{none_some}, Lines.Called.{own_units}}
use Rattle.due_model.specs.dialogue_model.specs.declared.exchange.Said.{Said}
use Rattle.link_laws.proofs.LeavingWays as ways
use Rattle.due_model.specs.array_model.specs.ArrayHistory as Play
use Rattle.due_model.specs.array_model.specs.Steps

-- ---- messages

pub record HasByteMessages (m : Messages) : Type 0 where
  pub first : AreBytes (message_bytes m.first)
  pub second : AreBytes (message_bytes m.second)

none_said : HasByteMessages no_messages
none_said = record { first = tt; second = tt }

one_said : (m : MsgIn) → AreBytes (in_bytes m) → HasByteMessages (one_message m)
one_said m a = record { first = a; second = tt }

pub all_small : (m : Messages) → HasByteMessages m → AreBytes (bytes_of_messages m)
all_small m h = small_append (message_bytes m.first) (message_bytes m.second) h.first h.second

pub record HasBytePlan (l : Plan) : Type 0 where
  pub messages : HasByteMessages l.messages
  pub offer : (a : Agreement) → l.said.offer ≡ Some a → IsSmallAgreement a

-- ---- how a phase is left

abbrev SaysBytes : Leaving → Type 0
SaysBytes l = HasByteMessages l.messages

leaves_phase : (v : Serving) {q : Bool} {phase : Phase} {l : Leaving} → ways.Leaves v q phase l
    → ((t : TargetDef) → v.def ≡ Some t → IsSmallTarget t) → HasBytePlan v.plan → SaysBytes l
leaves_phase v (ways.rejects _ _ _) f h = one_said MsgIn.Reject (omega arith, tt)
leaves_phase v (ways.answers a _ e) f h =
    one_said (MsgIn.Sdtr (target_answer v.def a))
    (offer_bytes (target_answer v.def a) (target_answer_small v.def a f (h.offer a e)))
leaves_phase v (ways.requests t _ _ e) f h =
    one_said (MsgIn.Sdtr (record { period = t.period; offset = t.offset }))
    (offer_bytes (record { period = t.period; offset = t.offset }) (f t e))
leaves_phase v (ways.repeats _ _) f h = h.messages
leaves_phase v (ways.restores _ _ _ _) f h = one_said MsgIn.RestorePointers (omega arith, tt)
leaves_phase v (ways.restores_status _ _) f h = one_said MsgIn.RestorePointers (omega arith, tt)
leaves_phase v (ways.queues _ _) f h = one_said MsgIn.Disconnect (omega arith, tt)
leaves_phase v (ways.saves _ _ _ _ _) f h = record { first = (omega arith, tt); second = (omega arith, tt) }
leaves_phase v (ways.disconnects _ _ _ _ _) f h = one_said MsgIn.Disconnect (omega arith, tt)
leaves_phase v (ways.completes _) f h = one_said MsgIn.CommandComplete (omega arith, tt)
leaves_phase v _ f h = none_said

pub leaves_small : (v : Serving) (begun : Bool) (bus : LineSet) → ((t : TargetDef) → v.def ≡ Some t → IsSmallTarget t)
    → HasBytePlan v.plan → HasByteMessages (leaving_by v begun bus).messages
leaves_small v true bus f h = leaves_phase v (ways.leaves v bus.atn (phase_of bus)) f h
leaves_small v false bus f h = none_said

-- ---- the plan, row by row

said_small : (m : MsgOut) (x : Said) → AreBytes (out_bytes m)
    → ((a : Agreement) → x.offer ≡ Some a → IsSmallAgreement a) → (a : Agreement) → (said_with m x).offer ≡ Some a
    → IsSmallAgreement a
said_small (MsgOut.Sdtr b) x h f = λ a e. subst IsSmallAgreement (same_Some b a e) (h.1.1.1.0, h.1.1.1.1.0)
said_small _ x h f = f

said_small_if : (m : Option MsgOut) (x : Said) → ((y : MsgOut) → m ≡ Some y → AreBytes (out_bytes y))
    → ((a : Agreement) → x.offer ≡ Some a → IsSmallAgreement a) → (a : Agreement) → (said_with_if m x).offer ≡ Some a
    → IsSmallAgreement a
said_small_if None x g f = f
said_small_if (Some m) x g f = said_small m x (g m refl) f

plan_on : (w : Hearing) (l : Leaving) (f : Plan) → ((m : MsgOut) → w.out ≡ Some m → AreBytes (out_bytes m))
    → SaysBytes l → HasBytePlan f → HasBytePlan (plan_after w l f)
plan_on w l f g a h = go (changes_phase w.change) w.crosses (w.fault && not w.change.before.io)
  where
    none : (a : Agreement) → (let o : Option Agreement = None in o) ≡ Some a → IsSmallAgreement a
    none a e = absurd (none_some a e)

    rest : (q r : Bool) → HasByteMessages
        (if q then (if r then f.messages else record { first = f.messages.second; second = None }) else f.messages)
    rest true true = h.messages
    rest true false = record { first = h.messages.second; second = tt }
    rest false r = h.messages

    phase : (q r : Bool) → HasBytePlan (if q then record (plan_anew f) { messages = l.messages; next = l.next }
        else if r then plan_in_message_out w f else plan_anew f)
    phase true r = record { messages = a; offer = none }
    phase false true = record {
      messages =
          rest (is_message_in w.change.before) (nat_lt (w.offered - 1) (length (message_bytes f.messages.first)));
      offer = none;
    }
    phase false false = record { messages = h.messages; offer = none }

    anew : (q : Bool) → HasBytePlan (if q then plan_anew f else f)
    anew true = record { messages = h.messages; offer = none }
    anew false = h

    byte : (q : Bool) → HasBytePlan (if q then plan_after_message f w.is_last w.out else f)
    byte true =
        let b = anew w.is_last in
        record { messages = b.messages; offer = said_small_if w.out (plan_anew_if w.is_last f).said g b.offer }
    byte false = h

    go : (q r t : Bool) → HasBytePlan
        (if q then plan_in_phase w l f else if r then plan_with_byte w f else if t then struck_plan f else f)
    go true r t = phase (not (is_message_out w.change.after)) w.begun
    go false true t = byte (is_message_out w.change.before)
    go false false true = record { messages = h.messages; offer = h.offer }
    go false false false = h

-- ---- the process that a target has ready

abbrev SmallIf : Option Ready → Type 0
SmallIf x = (r : Ready) → x ≡ Some r → IsSmallProcess r.process

ready_small_in : (s : ScenarioValue) (q : Bool) (t m : ℕ) (c : Option RunningProcess) (time : ℕ) → HasSmallLines s
    → IsOwnRunning s t m c → SmallIf (ready_in q c time)
ready_small_in s q t m None time l own r e = absurd (none_some r e)
ready_small_in s true t m (Some c) time l own r e = absurd (none_some r e)
ready_small_in s false t m (Some c) time l own r e = subst IsSmallProcess
    (ap (λ (x : Ready). x.process) (same_Some (record { time = time; process = c.process }) r e))
    (process_small s c.process.id c.process l own.is)

current_small : (s : ScenarioValue) (units : List UnitState) (t m time : ℕ) (q : Bool) → HasSmallLines s
    → AllOwnUnits s units → SmallIf (ready_in q (current_of (unit_state_at units t m)) time)
current_small s [] t m time q l own = λ r e. absurd (none_some r e)
current_small s (u ∷ units) t m time q l own =
    go (u.target == t && u.unit == m) (current_small s units t m time q l own.1)
  where
    go : (x : Bool) → SmallIf (ready_in q (current_of (unit_state_at units t m)) time)
        → SmallIf (ready_in q (current_of (if x then Some u else unit_state_at units t m)) time)
    go true more = ready_small_in s q u.target u.unit u.current time l (own.0).current
    go false more = more

first_small : (a b : Option Ready) → SmallIf a → SmallIf b → SmallIf (first_ready a b)
first_small None b f g = g
first_small (Some a) None f g = f
first_small (Some a) (Some b) f g =
    elim (is_ready_before b a) as (λ q. SmallIf (if q then Some b else Some a)) [ true ↦ g | false ↦ f ]

ready_small : (s : ScenarioValue) (k : RunState) (target : ℕ) → HasSmallLines s → AllOwnUnits s (array_of s k).units
    → SmallIf (ready_of s k target)
ready_small s k target l own =
    let a = array_of s k in
    let at : (m : ℕ) → SmallIf (ready_at a k.current_since (seek_of s.targets target) target m) = λ m. current_small
    s a.units target m (since_of a.units k.current_since target m + seek_of s.targets target)
    (is_held a.holds target m) l own in
    first_small _ _ (at 0)
    (first_small _ _ (at 1) (first_small _ _ (at 2) (first_small _ _ (at 3) (first_small _ _ (at 4)
    (first_small _ _ (at 5) (first_small _ _ (at 6) (first_small _ None (at 7) (λ r e. absurd (none_some r e)))))))))

tag_said : (t : Tag) → IsSmallTag t → AreBytes (message_bytes (tag_named t))
tag_said Tag.Untagged h = tt
tag_said _ h = (omega arith, (h, tt))

names : (o : Option Ready) → SmallIf o → HasByteMessages (messages_if o)
names None f = none_said
names (Some r) f =
    let w = f r refl in
    record { first = (let b = w.0 in omega arith, tt); second = tag_said r.process.tag w.1 }

-- ---- a connection, row by row

pub record SpeaksBytes (k : RunState) : Type 0 where
  pub halves : HasByteHalves k.story.bus_state.dialogue
  pub words : HasByteWords k.exchange.speech
  pub plan : HasBytePlan k.exchange.plan

exchange_on :
    (s : ScenarioValue) (k : RunState) (row : Row) (d : RowReading) (before after : Option Connection) (l : Leaving)
    → HasSmallLines s → AllOwnUnits s (array_of s k).units → ((m : MsgOut) → d.out ≡ Some m → AreBytes (out_bytes m))
    → ((m : MsgIn) → d.into ≡ Some m → AreBytes (in_bytes m)) → SaysBytes l → SpeaksBytes k
    → HasByteWords (exchange_after s k row d before after l).speech
    × HasBytePlan (exchange_after s k row d before after l).plan
exchange_on s k row d None None l hs own f g a h = (h.words, h.plan)
exchange_on s k row d (Some m) None l hs own f g a h = (
  record { words = tt; asked = (omega arith, omega arith) },
  record { messages = none_said; offer = λ a e. absurd (none_some a e) },
)
exchange_on s k row d None (Some n) l hs own f g a h = (
  record { words = words n.reselected; asked = (omega arith, omega arith) },
  plans n.reselected (may_negotiate k n (aim_of k.story.aims n.initiator)),
)
  where
    item : Option Item
    item = aim_of k.story.aims n.initiator

    words : (q : Bool)
        → AreBytes (if q then [] else Rattle.due_model.specs.Defs.opening s n.initiator (may_negotiate k n item) item)
    words true = tt
    words false = opening_small s n.initiator (may_negotiate k n item) item hs

    plans : (q r : Bool)
        → HasBytePlan (first_plan q (not q && r) (if q then messages_if (ready_of s k n.target) else no_messages))
    plans true r = record {
      messages = names (ready_of s k n.target) (ready_small s k n.target hs own);
      offer = λ a e. absurd (none_some a e);
    }
    plans false r = record { messages = none_said; offer = λ a e. absurd (none_some a e) }
exchange_on s k row d (Some m) (Some n) l hs own f g a h = (
  words_on (host_of s n.initiator) (hearing_of k row d) k.exchange.speech
      (λ x e. host_small s n.initiator x hs e) g h.words,
  plan_on (hearing_of k row d) l k.exchange.plan f a h.plan,
)

pub left_small : (s : ScenarioValue) (k : RunState) (dev : ℕ) → HasSmallLines s → SpeaksBytes k
    → HasByteMessages (leaving s k dev).messages
left_small s k dev hs h =
    leaves_small (serving_of s k dev) k.exchange.begun (bus_of k) (λ t e. target_small s dev t hs e) h.plan

left_small_by : (s : ScenarioValue) (k : RunState) (o : Option Connection) → HasSmallLines s → SpeaksBytes k
    → HasByteMessages (leaving_of s k o).messages
left_small_by s k None hs h = left_small s k 0 hs h
left_small_by s k (Some n) hs h = left_small s k n.target hs h

speaks_on : (s : ScenarioValue) (k : RunState) (row : Row) → HasSmallLines s → AllOwnUnits s (array_of s k).units
    → SpeaksBytes k → SpeaksBytes (run_state_after s k row)
speaks_on s k row hs own h =
    let w = k.story.bus_state in
    let d = row_reading w row in
    let x = exchange_on s k row d w.connection d.next (leaving_of s k w.connection) hs own
    (λ m e. told_out w.dialogue d.change d.crosses m h.halves e)
    (λ m e. told_in w.dialogue d.change d.crosses m h.halves e) (left_small_by s k w.connection hs h) h in
    record { halves = halves_after w.dialogue w.connection d.next _ d.change h.halves; words = x.0; plan = x.1 }

pub speaks_bytes : (s : ScenarioValue) (p : List Row) → HasSmallLines s → HasSeats s → AreOfDevices p
    → SpeaksBytes (run_state s p)
speaks_bytes s [] hs seats dv = record {
  halves = record { half = tt; fresh = tt };
  words = record { words = tt; asked = (omega arith, omega arith) };
  plan = record { messages = none_said; offer = λ a e. absurd (none_some a e) };
}
speaks_bytes s (row ∷ p) hs seats dv =
    speaks_on s (run_state s p) row hs (own_units s p seats dv.1) (speaks_bytes s p hs seats dv.1)

-- ---- What both ends of a connection are due to give are bytes, after any rows.

-- ---- the array, row by row

abbrev pub KeepsIf : ScenarioValue → Option Array → Type 0
KeepsIf s None = Unit {0}
KeepsIf s (Some a) = IsSound s a × HasBytes a

keeps_event : (s : ScenarioValue) (event : Event) (o : Option Array) → SendsBytes s → HasSeats s → HasByteCode event
    → KeepsIf s o → KeepsIf s (Play.array_step s event o)
keeps_event s event None f seats c h = tt
keeps_event s event (Some a) f seats c h =
    go (Steps.step s event a) refl (step_bytes s a event f (h.0).units (h.0).guests c h.1)
  where
    go : (o : Option Array) → Steps.step s event a ≡ o → HasBytesIf o → KeepsIf s o
    go None e g = tt
    go (Some b) e g = (step_sound s a b event seats h.0 e, g)

pub keeps_events : (s : ScenarioValue) (shown : List Event) (o : Option Array) → SendsBytes s → HasSeats s
    → AllByRecursion HasByteCode shown → KeepsIf s o → KeepsIf s (array_after_events s o shown)
keeps_events s [] o f seats c h = h
keeps_events s (event ∷ shown) o f seats c h =
    keeps_event s event (array_after_events s o shown) f seats c.0 (keeps_events s shown o f seats c.1 h)

pub record Keeps (s : ScenarioValue) (k : RunState) : Type 0 where
  pub array : KeepsIf s k.array
  pub codes : HasCodes k.story

keeps_row : (s : ScenarioValue) (k : RunState) (row : Row) → SendsBytes s → HasSeats s → Keeps s k
    → Keeps s (run_state_after s k row)
keeps_row s k row f seats h = record {
  array = keeps_events s (row_events_by s k.story (row_reading k.story.bus_state row) row) k.array f seats
      (row_codes s k.story (row_reading k.story.bus_state row) row h.codes) h.array;
  codes = codes_on s k.story row h.codes;
}

fills_small : (s : ScenarioValue) → Obeys s → AllByRecursion (λ (f : FillDef). AreBytes f.bytes) s.fills
fills_small s o =
    all_are (λ (f : FillDef). IsHex f.bytes) (λ (f : FillDef). AreBytes f.bytes) s.fills (λ f h. h.0) o.fills

load_small : (what : Load) → IsHexLoad what → IsByteLoad what
load_small (Load.Block bytes) h = h.0
load_small Load.Mark h = tt

loads_small : (s : ScenarioValue) → Obeys s → AllByRecursion (λ (l : LoadDef). IsByteLoad l.what) s.loads
loads_small s o = all_are (λ (l : LoadDef). IsHexLoad l.what) (λ (l : LoadDef). IsByteLoad l.what) s.loads
    (λ l h. load_small l.what h) o.loads

pub sends_bytes : (s : ScenarioValue) → Obeys s → SendsBytes s
sends_bytes s o id c e = bytes_of_process s id c o e

pub keeps : (s : ScenarioValue) (p : List Row) → Obeys s → SendsBytes s → HasSeats s → Keeps s (run_state s p)
keeps s [] o f seats = record {
  array = (start_sound s seats, settles (starting_array s) (start_bytes s (fills_small s o) (loads_small s o)));
  codes = no_codes;
}
keeps s (row ∷ p) o f seats = keeps_row s (run_state s p) row f seats (keeps s p o f seats)

array_small : (s : ScenarioValue) (o : Option Array) → Obeys s → KeepsIf s o → HasBytes (or_start s o)
array_small s None b h = start_bytes s (fills_small s b) (loads_small s b)
array_small s (Some a) b h = h.1

-- ---- what the target gives

reply_small : (a : Array) (c : Process) → HasBytes a → AreBytes c.cdb × AreBytes c.sent → HasByteReply (reply_now a c)
reply_small a c h b = (gives_bytes (Steps.context_at a (nexus_of c) (unit_state_at a.units c.target c.unit)) c.cdb
    c.sent (context_small a (nexus_of c) c.target c.unit h) b.0 b.1).reply

abbrev StatusIf : Option Reply → Type 0
StatusIf None = Unit {0}
StatusIf (Some r) = r.status < 256

listed_small : (replies : List (ProcId × Reply)) (id : ProcId) → AllByRecursion IsByteListed replies
    → StatusIf (Play.reply_in replies id)
listed_small [] id a = tt
listed_small (e ∷ replies) id a = go (same_id e.0 id) (listed_small replies id a.1)
  where
    go : (q : Bool) → StatusIf (Play.reply_in replies id) → StatusIf (if q then Some e.1 else Play.reply_in replies id)
    go true h = a.0
    go false h = h

status_small : (r : Reply) (o : Option Reply) → r.status < 256 → StatusIf o → status_by r o < 256
status_small r None a b = a
status_small r (Some x) a b = b

sent_small : (s : ScenarioValue) (i : Option Item) (c : Process) → SendsBytes s → process_item s i ≡ Some c
    → AreBytes c.cdb × AreBytes c.sent
sent_small s None c f e = cc
sent_small s (Some (process id)) c f e = f id c e
sent_small s (Some (abort n)) c f e = cc

task_small : (s : ScenarioValue) (k : RunState) (o : Option Process) → HasBytes (array_of s k)
    → ((c : Process) → o ≡ Some c → AreBytes c.cdb × AreBytes c.sent) → status_byte (task_if s k o) < 256
task_small s k None h f = omega arith
task_small s k (Some c) h f = status_small (reply_now (array_of s k) c) (Play.reply_in (array_of s k).replies c.id)
    (reply_small (array_of s k) c h (f c refl)).status (listed_small (array_of s k).replies c.id h.replies)

given_small : (s : ScenarioValue) (k : RunState) (o : Option Process) → HasBytes (array_of s k)
    → ((c : Process) → o ≡ Some c → AreBytes c.cdb × AreBytes c.sent) → AreBytes (given_if s k o)
given_small s k None h f = tt
given_small s k (Some c) h f = (reply_small (array_of s k) c h (f c refl)).bytes

data_small : (policy : Policy) (o : Option Task) (given : List ℕ) (more place : ℕ) → AreBytes given
    → data_byte policy o given more place < 256
data_small policy None given more place h = omega arith
data_small policy (Some t) given more place h = byte_small given ((run_at policy t (t.runs + more)).start + place) h

phase_small : (v : Serving) (phase : Phase) (m : Messages) (more place : ℕ) → HasByteMessages m
    → status_byte v.task < 256 → AreBytes v.given → phase_byte v phase m more place < 256
phase_small v Phase.MessageIn m more place h a b = byte_small (bytes_of_messages m) place (all_small m h)
phase_small v Phase.Status m more place h a b = a
phase_small v Phase.DataIn m more place h a b = data_small (policy_of v.def) v.task v.given more place b
phase_small v _ m more place h a b = omega arith

-- ---- any row

pub byte_values : (s : ScenarioValue) (p : List Row) (n : Connection) → Obeys s → HasSeats s → AreOfDevices p
    → HasByteValues s (run_state s p) n
byte_values s p n o seats dv =
    let k = run_state s p in
    let f : SendsBytes s = sends_bytes s o in
    let l = small_lines s o in
    let says = speaks_bytes s p l seats dv in
    let array = array_small s k.array o (keeps s p o f seats).array in
    let sent : (q : Process) → process_served s k ≡ Some q → AreBytes q.cdb × AreBytes q.sent =
    λ q e. sent_small s k.served q f e in
    let status = task_small s k (process_served s k) array sent in
    let given = given_small s k (process_served s k) array sent in
    record {
      offered = phase_small (serving_of s k n.target)
          (phase_of (bus_of k)) k.exchange.plan.messages 0 k.handshakes.requests says.plan.messages status given;
      said = λ z. byte_small k.exchange.speech.words k.exchange.speech.place says.words.words;
      entering = λ phase z. phase_small (serving_of s k n.target) phase (leaving s k n.target).messages
          (one_if (leaving s k n.target).done) 0 (left_small s k n.target l says) status given;
    }

-- After any rows of the devices.
abbrev pub GivesByteValues : ScenarioValue → Type 0
GivesByteValues s = (p : List Row) (n : Connection) → AreOfDevices p → HasByteValues s (run_state s p) n
