-- Where two servings mean the same, a target does the same by them.
use Rattle.std.proofs.Common.{ℕ, ◌≡◌, subst, ◌∙◌, ◌+◌, Bool, true, false, List, [], refl, sym, Option, Some, None}
use Rattle.std.specs.Prelude.{if◌then◌else◌, not, ◌&&◌, ◌||◌, nat_lt, is_none, is_some}
use Rattle.bus_base.specs.declared.AbortKind.{AbortKind}
use Rattle.bus_base.specs.declared.Event.{Event}
use Rattle.bus_base.specs.declared.ProcId.{ProcId}
use Rattle.bus_trace.specs.LineSet.{LineSet, byte_set}
use Rattle.bus_trace.specs.Phases.{is_data}
use Rattle.bus_trace.specs.declared.connection.Connection.{Connection}
use Rattle.bus_lines.specs.Handshakes.{Handshakes}
use Rattle.scenario.specs.declared.value.Policy.{Policy}
use Rattle.scenario.specs.declared.value.TargetDef.{TargetDef}
use Rattle.msg_grammar.specs.declared.message.MsgIn.{MsgIn}
use Rattle.bus_trace.specs.declared.agreements.Agreement.{Agreement}
use Rattle.due_model.specs.dialogue_model.specs.declared.exchange.Arrival.{Arrival}
use Rattle.due_model.specs.dialogue_model.specs.declared.exchange.Arrival.TheVariants as arrivals
use Rattle.due_model.specs.dialogue_model.specs.declared.exchange.Cause.{Cause}
use Rattle.due_model.specs.dialogue_model.specs.declared.exchange.Cause.TheVariants as causes
use Rattle.due_model.specs.dialogue_model.specs.declared.exchange.Leaving.{Leaving}
use Rattle.due_model.specs.dialogue_model.specs.declared.exchange.Next.{Next}
use Rattle.due_model.specs.dialogue_model.specs.declared.exchange.Next.TheVariants as nexts
use Rattle.due_model.specs.dialogue_model.specs.declared.exchange.Phase.{Phase}
use Rattle.due_model.specs.dialogue_model.specs.declared.exchange.Phase.TheVariants as phases
use Rattle.due_model.specs.dialogue_model.specs.declared.exchange.Plan.{Plan}
use Rattle.due_model.specs.dialogue_model.specs.declared.exchange.Task.{Task}
use Rattle.due_model.specs.dialogue_model.specs.Arrivals.{policy_of}
use Rattle.due_model.specs.dialogue_model.specs.Words.{is_naming, request_by}
use Rattle.due_model.specs.dialogue_model.specs.DataRuns.{run_length, run_byte}
use Rattle.due_model.specs.dialogue_model.specs.NextPhase.{Serving, phase_of, leaving_by, bus_free, phase_entry}
use Rattle.due_model.specs.dialogue_model.specs.NextPhase.{phase_lines, with_task, recovery, recovery_limit}
use Rattle.due_model.specs.dialogue_model.specs.NextPhase.{request_or_command, after_offer, after_opening}
use Rattle.due_model.specs.dialogue_model.specs.NextPhase.{message_out_leaving, message_repetition, pointer_restoration}
use Rattle.due_model.specs.dialogue_model.specs.NextPhase.{next_data_phase, after_messages, after_arrival, after_run}
use Rattle.due_model.specs.dialogue_model.specs.NextPhase.{phase_leaving, unless_attention, waits_seek}
use Rattle.due_model.specs.dialogue_model.specs.PhaseBytes.{has_whole_block, status_byte, data_byte, run_length_if}
use Rattle.due_model.specs.dialogue_model.specs.PhaseBytes.{phase_byte, follows_in, lines_by, one_if}
use Rattle.due_model.specs.dialogue_model.specs.Ends.{seek_by, seek_before, follows_by, offering_by}
use Rattle.due_model.specs.dialogue_model.specs.Events.{is_status_next, has_replied, newest_with, reply_events}
use Rattle.due_model.specs.dialogue_model.specs.Events.{arrival_events, turn_events, turn_events_if}
use Rattle.due_model.specs.dialogue_model.specs.Events.{connection_end_events}
use Rattle.due_model.specs.dialogue_model.specs.Events.{leaving_events}
use Rattle.target_units.specs.scsi_device.specs.Heard.{is_selected, is_opening_in, is_command_phase, moves_data}
use Rattle.target_units.specs.scsi_device.specs.Heard.{gives_status, goes_on}
use Rattle.target_units.specs.scsi_device.specs.Heard as heard
use Rattle.target_course.specs.Alike.{AreAlike}
use Rattle.target_course.specs.Agreeing.{arrives, IsSameCommand, HaveSameTask, AreAgreeing}
use Rattle.target_units.specs.scsi_device.proofs.PhaseLines.{command_is}

-- ---- by the task

recoveries_same : (def : Option TargetDef) (t u : Task) (again gives_up : Leaving) → t.in_hold ≡ u.in_hold
    → t.recoveries ≡ u.recoveries → recovery def t again gives_up ≡ recovery def u again gives_up
recoveries_same def t u again gives_up h r =
    λ i. if h i then again else if nat_lt (r i) (recovery_limit def) then record again { counts = true } else gives_up

-- What the one has of the command on the way to the other.
abbrev between : (t u : Task) (c : IsSameCommand t u) → t.runs ≡ u.runs → t.replied ≡ u.replied
    → record t { in_hold = u.in_hold; recoveries = u.recoveries; whole = u.whole; status = u.status } ≡ u
between t u c n p = λ i. record {
  writes = c.writes i;
  moved = c.moved i;
  blocks = c.blocks i;
  size = c.size i;
  runs = n i;
  recoveries = u.recoveries;
  in_hold = u.in_hold;
  whole = u.whole;
  replied = p i;
  status = u.status;
}

phases_same : (policy : Policy) (t u : Task) → IsSameCommand t u → t.runs ≡ u.runs → t.replied ≡ u.replied
    → next_data_phase policy t t.runs ≡ next_data_phase policy u u.runs
phases_same policy t u c n p = λ i. next_data_phase policy (between t u c n p i) (n i)

runs_same : (policy : Policy) (t u : Task) → IsSameCommand t u → t.runs ≡ u.runs → t.replied ≡ u.replied
    → after_run policy t ≡ after_run policy u
runs_same policy t u c n p = λ i. after_run policy (between t u c n p i)

arrivals_same : (def : Option TargetDef) (t u : Task) (a : Arrival) → IsSameCommand t u → t.runs ≡ u.runs
    → t.replied ≡ u.replied → after_arrival def t a ≡ after_arrival def u a
arrivals_same def t u arrivals.Refused c n p = refl
arrivals_same def t u arrivals.Guest c n p = λ i. phase_entry (phases_same (policy_of def) t u c n p i)
arrivals_same def t u arrivals.AtOnce c n p = λ i. phase_entry (phases_same (policy_of def) t u c n p i)
arrivals_same def t u arrivals.Queued c n p = refl

with_same : (f g : Task → Leaving) (leaves : Bool) (phase : Phase) (plan : Plan) (x y : Option Task)
    (h : HaveSameTask leaves phase plan x y) → f h.one ≡ g h.other → with_task x f ≡ with_task y g
with_same f g leaves phase plan x y h e = (λ i. with_task (h.one_is i) f) ∙ e ∙ (λ i. with_task (sym h.other_is i) g)

-- ---- servings of one plan but for whether it negotiates

abbrev pub serves : Option TargetDef → Plan → Option Task → List ℕ → Arrival → Serving
serves def plan task given arrival = record { def = def; plan = plan; task = task; given = given; arrival = arrival }

abbrev pub renegotiated : Plan → Bool → Plan
renegotiated p x = record p { negotiates = x }

record AreParts (leaves : Bool) (phase : Phase) (p : Plan) (x : Bool) (tv tw : Option Task) (av aw : Arrival) : Type
    0 where
  negotiates : leaves ≡ true → is_none p.said.aborts ≡ true → x ≡ p.negotiates
  task : is_opening_in phase p.cause ≡ false → HaveSameTask leaves phase p tv tw
  arrival : (t : Task) → tw ≡ Some t → arrives leaves phase p t.whole ≡ true → av ≡ aw

parts_of : (leaves : Bool) (phase : Phase) (v w : Serving) → AreAgreeing leaves phase v w
    → AreParts leaves phase w.plan v.plan.negotiates v.task w.task v.arrival w.arrival
parts_of leaves phase v w a = record { negotiates = a.negotiates; task = a.task; arrival = a.arrival }

like_is : (leaves : Bool) (phase : Phase) (v w : Serving) → AreAgreeing leaves phase v w
    → v ≡ serves w.def (renegotiated w.plan v.plan.negotiates) v.task w.given v.arrival
like_is leaves phase v w a =
    λ i. record { def = a.def i; plan = a.plan i; task = v.task; given = a.given i; arrival = v.arrival }

-- In COMMAND a byte of the block follows unless one was struck, or the block is whole.
abbrev IsCommandOver : Phase → Plan → Option Task → Type 0
IsCommandOver phase p task = is_command_phase phase ≡ true → p.struck ≡ false → has_whole_block task ≡ true

-- As an unstruck COMMAND is left the same becomes of the command.
arrived_same : (def : Option TargetDef) (p : Plan) (x : Bool) (tv tw : Option Task) (av aw : Arrival)
    → AreParts true phases.Command p x tv tw av aw → IsCommandOver phases.Command p tw → p.struck ≡ false → av ≡ aw
arrived_same def p x tv tw av aw q over e =
    let h : HaveSameTask true phases.Command p tv tw = q.task refl in
    let whole : h.other.whole ≡ true = (λ i. has_whole_block (sym h.other_is i)) ∙ over refl e in
    q.arrival h.other h.other_is (λ i. not (e i) && whole i)

-- ---- how a phase is left

leaving_parts : (def : Option TargetDef) (p : Plan) (x : Bool) (given : List ℕ) (tv tw : Option Task)
    (av aw : Arrival) (atn : Bool) (phase : Phase) → AreParts true phase p x tv tw av aw → IsCommandOver phase p tw
    → phase_leaving (serves def (renegotiated p x) tv given av) atn phase
    ≡ phase_leaving (serves def p tw given aw) atn phase
leaving_parts def p x given tv tw av aw atn phases.MessageOut q over = by_cause p.cause refl
  where
    opened : (y : Option AbortKind) → (is_none y ≡ true → x ≡ p.negotiates)
        → (if is_some y then bus_free else after_offer def x p.said.offer)
        ≡ (if is_some y then bus_free else after_offer def p.negotiates p.said.offer)
    opened None n = λ i. after_offer def (n refl i) p.said.offer
    opened (Some k) n = refl

    refused : (a b : Bool) → HaveSameTask true phases.MessageOut p tv tw → (if a then phase_entry phases.Command
        else if b then message_repetition p else with_task tv (λ t. recovery def t (message_repetition p) bus_free))
        ≡ (if a then phase_entry phases.Command
        else if b then message_repetition p else with_task tw (λ t. recovery def t (message_repetition p) bus_free))
    refused true b h = refl
    refused false true h = refl
    refused false false h = with_same (λ t. recovery def t (message_repetition p) bus_free)
        (λ t. recovery def t (message_repetition p) bus_free) true phases.MessageOut p tv tw h
        (recoveries_same def h.one h.other (message_repetition p) bus_free h.in_hold h.recoveries)

    restored : (next : Next) (gives_up : Leaving) → HaveSameTask true phases.MessageOut p tv tw
        → with_task tv (λ t. recovery def t (pointer_restoration next) gives_up)
        ≡ with_task tw (λ t. recovery def t (pointer_restoration next) gives_up)
    restored next gives_up h = with_same (λ t. recovery def t (pointer_restoration next) gives_up)
        (λ t. recovery def t (pointer_restoration next) gives_up) true phases.MessageOut p tv tw h
        (recoveries_same def h.one h.other (pointer_restoration next) gives_up h.in_hold h.recoveries)

    by_cause : (c : Cause) → p.cause ≡ c → message_out_leaving (serves def (renegotiated p x) tv given av) c
        ≡ message_out_leaving (serves def p tw given aw) c
    by_cause causes.Selected e = opened p.said.aborts (q.negotiates refl)
    by_cause causes.InMessage e =
        refused (is_some p.said.offer) (is_naming p.messages.first) (q.task (λ i. is_selected (e i)))
    by_cause causes.InData e = restored nexts.GoOn (phase_entry phases.Status) (q.task (λ i. is_selected (e i)))
    by_cause causes.InStatus e = restored nexts.Status bus_free (q.task (λ i. is_selected (e i)))
leaving_parts def p x given tv tw av aw true phases.MessageIn q over = refl
leaving_parts def p x given tv tw av aw false phases.MessageIn q over = by_next p.next refl
  where
    by_next : (c : Next) → p.next ≡ c
        → after_messages (serves def (renegotiated p x) tv given av) c ≡ after_messages (serves def p tw given aw) c
    by_next nexts.Command e = refl
    by_next nexts.Status e = refl
    by_next nexts.FreeBus e = refl
    by_next nexts.GoOn e =
        let h : HaveSameTask true phases.MessageIn p tv tw = q.task refl in
        let c : IsSameCommand h.one h.other = h.command (λ i. goes_on (e i) || false) in
        with_same (λ t. phase_entry (next_data_phase (policy_of def) t t.runs))
        (λ t. phase_entry (next_data_phase (policy_of def) t t.runs)) true phases.MessageIn p tv tw h
        (λ i. phase_entry (phases_same (policy_of def) h.one h.other c h.runs h.replied i))
leaving_parts def p x given tv tw av aw atn phases.Command q over =
    let h : HaveSameTask true phases.Command p tv tw = q.task refl in
    with_same (λ t. if p.struck then recovery def t (pointer_restoration nexts.Command) (phase_entry phases.Status)
    else after_arrival def t av)
    (λ t. if p.struck then recovery def t (pointer_restoration nexts.Command) (phase_entry phases.Status)
    else after_arrival def t aw) true phases.Command p tv tw h (by_struck h p.struck refl)
  where
    by_struck : (h : HaveSameTask true phases.Command p tv tw) (y : Bool) → p.struck ≡ y
        → (if y then recovery def h.one (pointer_restoration nexts.Command) (phase_entry phases.Status)
        else after_arrival def h.one av)
        ≡ (if y then recovery def h.other (pointer_restoration nexts.Command) (phase_entry phases.Status)
        else after_arrival def h.other aw)
    by_struck h true e = recoveries_same def h.one h.other (pointer_restoration nexts.Command)
        (phase_entry phases.Status) h.in_hold h.recoveries
    by_struck h false e =
        let whole : h.other.whole ≡ true = (λ i. has_whole_block (sym h.other_is i)) ∙ over refl e in
        let whole_now : (not p.struck && h.other.whole) ≡ true = λ i. not (e i) && whole i in
        let c : IsSameCommand h.one h.other = h.command whole_now in
        (λ i. after_arrival def h.one (q.arrival h.other h.other_is whole_now i))
        ∙ arrivals_same def h.one h.other aw c h.runs h.replied
leaving_parts def p x given tv tw av aw true phases.DataIn q over = refl
leaving_parts def p x given tv tw av aw false phases.DataIn q over =
    let h : HaveSameTask true phases.DataIn p tv tw = q.task refl in
    with_same (λ t. after_run (policy_of def) t) (λ t. after_run (policy_of def) t) true phases.DataIn p tv tw h
    (runs_same (policy_of def) h.one h.other (h.command refl) h.runs h.replied)
leaving_parts def p x given tv tw av aw atn phases.DataOut q over =
    let h : HaveSameTask true phases.DataOut p tv tw = q.task refl in
    with_same (λ t. if p.struck then recovery def t (pointer_restoration nexts.GoOn) (phase_entry phases.Status)
    else after_run (policy_of def) t)
    (λ t. if p.struck then recovery def t (pointer_restoration nexts.GoOn) (phase_entry phases.Status)
    else after_run (policy_of def) t) true phases.DataOut p tv tw h (by_struck h p.struck)
  where
    by_struck : (h : HaveSameTask true phases.DataOut p tv tw) (y : Bool)
        → (if y then recovery def h.one (pointer_restoration nexts.GoOn) (phase_entry phases.Status)
        else after_run (policy_of def) h.one)
        ≡ (if y then recovery def h.other (pointer_restoration nexts.GoOn) (phase_entry phases.Status)
        else after_run (policy_of def) h.other)
    by_struck h true = recoveries_same def h.one h.other (pointer_restoration nexts.GoOn)
        (phase_entry phases.Status) h.in_hold h.recoveries
    by_struck h false = runs_same (policy_of def) h.one h.other (h.command refl) h.runs h.replied
leaving_parts def p x given tv tw av aw true phases.Status q over = refl
leaving_parts def p x given tv tw av aw false phases.Status q over = refl

-- ---- whether a byte follows, and which

lengths_same : (policy : Policy) (leaves : Bool) (phase : Phase)
    (p : Plan) (x y : Option Task) (h : HaveSameTask leaves phase p x y)
    → IsSameCommand h.one h.other → run_length_if policy x ≡ run_length_if policy y
lengths_same policy leaves phase p x y h c =
    (λ i. run_length_if policy (h.one_is i)) ∙ (λ i. run_length policy (between h.one h.other c h.runs h.replied i))
    ∙ (λ i. run_length_if policy (sym h.other_is i))

bytes_same : (policy : Policy) (leaves : Bool) (phase : Phase) (p : Plan) (x y : Option Task)
    (given : List ℕ) (more place : ℕ) (h : HaveSameTask leaves phase p x y)
    → IsSameCommand h.one h.other → data_byte policy x given more place ≡ data_byte policy y given more place
bytes_same policy leaves phase p x y given more place h c = (λ i. data_byte policy (h.one_is i) given more place)
    ∙ (λ i. run_byte policy (between h.one h.other c h.runs h.replied i) given (h.runs i + more) place)
    ∙ (λ i. data_byte policy (sym h.other_is i) given more place)

statuses_same : (leaves : Bool) (phase : Phase) (p : Plan) (x y : Option Task) (h : HaveSameTask leaves phase p x y)
    → h.one.status ≡ h.other.status → status_byte x ≡ status_byte y
statuses_same leaves phase p x y h e = (λ i. status_byte (h.one_is i)) ∙ e ∙ (λ i. status_byte (sym h.other_is i))

follows_parts : (leaves : Bool) (def : Option TargetDef) (p : Plan) (x : Bool) (given : List ℕ) (tv tw : Option Task)
    (av aw : Arrival) (r : Handshakes) (atn : Bool) (phase : Phase) → AreParts leaves phase p x tv tw av aw
    → follows_in (serves def (renegotiated p x) tv given av) r atn phase
    ≡ follows_in (serves def p tw given aw) r atn phase
follows_parts leaves def p x given tv tw av aw r atn phases.MessageOut q = refl
follows_parts leaves def p x given tv tw av aw r atn phases.MessageIn q = refl
follows_parts leaves def p x given tv tw av aw r atn phases.Status q = refl
follows_parts leaves def p x given tv tw av aw r atn phases.Command q =
    let h : HaveSameTask leaves phases.Command p tv tw = q.task refl in
    λ i. not p.struck
    && not (((λ j. has_whole_block (h.one_is j)) ∙ h.whole refl ∙ (λ j. has_whole_block (sym h.other_is j))) i)
follows_parts leaves def p x given tv tw av aw r atn phases.DataIn q =
    let h : HaveSameTask leaves phases.DataIn p tv tw = q.task refl in
    λ i. nat_lt r.requests (lengths_same (policy_of def) leaves phases.DataIn p tv tw h (h.command refl) i)
follows_parts leaves def p x given tv tw av aw r atn phases.DataOut q =
    let h : HaveSameTask leaves phases.DataOut p tv tw = q.task refl in
    λ i. nat_lt r.answers (lengths_same (policy_of def) leaves phases.DataOut p tv tw h (h.command refl) i)

abbrev is_in : Phase → Bool
is_in phases.MessageOut = false
is_in phases.MessageIn = true
is_in phases.Command = false
is_in phases.Status = true
is_in phases.DataIn = true
is_in phases.DataOut = false

byte_parts : (leaves : Bool) (def : Option TargetDef) (p : Plan) (x : Bool) (given : List ℕ)
    (tv tw : Option Task) (av aw : Arrival) (place : ℕ) (phase : Phase) → AreParts leaves phase p x tv tw av aw
    → phase_byte (serves def (renegotiated p x) tv given av) phase p.messages 0 place
    ≡ phase_byte (serves def p tw given aw) phase p.messages 0 place
byte_parts leaves def p x given tv tw av aw place phases.MessageOut q = refl
byte_parts leaves def p x given tv tw av aw place phases.MessageIn q = refl
byte_parts leaves def p x given tv tw av aw place phases.Command q = refl
byte_parts leaves def p x given tv tw av aw place phases.DataOut q = refl
byte_parts leaves def p x given tv tw av aw place phases.Status q =
    let h : HaveSameTask leaves phases.Status p tv tw = q.task refl in
    statuses_same leaves phases.Status p tv tw h (h.status refl)
byte_parts leaves def p x given tv tw av aw place phases.DataIn q =
    let h : HaveSameTask leaves phases.DataIn p tv tw = q.task refl in
    bytes_same (policy_of def) leaves phases.DataIn p tv tw given 0 place h (h.command refl)

-- ---- what it drives as it leaves

lines_out : (v w : Serving) (l : Leaving) (x : Option Phase) → lines_by v false l x ≡ lines_by w false l x
lines_out v w l None = refl
lines_out v w l (Some phase) = refl

record GiveSameBytes (v w : Serving) (l : Leaving) : Type 0 where
  status : status_byte v.task ≡ status_byte w.task
  bytes : data_byte (policy_of v.def) v.task v.given (one_if l.done) 0
      ≡ data_byte (policy_of w.def) w.task w.given (one_if l.done) 0

lines_in : (v w : Serving) (l : Leaving) (x : Option Phase) → GiveSameBytes v w l
    → lines_by v true l x ≡ lines_by w true l x
lines_in v w l None g = refl
lines_in v w l (Some phases.MessageOut) g = refl
lines_in v w l (Some phases.MessageIn) g = refl
lines_in v w l (Some phases.Command) g = refl
lines_in v w l (Some phases.DataOut) g = refl
lines_in v w l (Some phases.Status) g =
    λ i. record (phase_lines phases.Status) { data_bits = (byte_set (g.status i)).data_bits }
lines_in v w l (Some phases.DataIn) g =
    λ i. record (phase_lines phases.DataIn) { data_bits = (byte_set (g.bytes i)).data_bits }

abbrev exit_lines : Serving → Bool → Phase → LineSet
exit_lines v atn phase = lines_by v (is_in phase) (phase_leaving v atn phase) (phase_leaving v atn phase).to

lines_parts : (def : Option TargetDef) (p : Plan) (x : Bool) (given : List ℕ) (tv tw : Option Task)
    (av aw : Arrival) (atn : Bool) (phase : Phase) → AreParts true phase p x tv tw av aw → IsCommandOver phase p tw
    → exit_lines (serves def (renegotiated p x) tv given av) atn phase ≡ exit_lines (serves def p tw given aw) atn phase
lines_parts def p x given tv tw av aw atn phase q over =
    by_phase phase q over (leaving_parts def p x given tv tw av aw atn phase q over)
  where
    v : Serving
    v = serves def (renegotiated p x) tv given av

    w : Serving
    w = serves def p tw given aw

    outward : (phase : Phase) → phase_leaving v atn phase ≡ phase_leaving w atn phase
        → lines_by v false (phase_leaving v atn phase) (phase_leaving v atn phase).to
        ≡ lines_by w false (phase_leaving w atn phase) (phase_leaving w atn phase).to
    outward phase e = (λ i. lines_by v false (e i) (e i).to)
        ∙ lines_out v w (phase_leaving w atn phase) (phase_leaving w atn phase).to

    inward : (phase : Phase) → phase_leaving v atn phase ≡ phase_leaving w atn phase
        → GiveSameBytes v w (phase_leaving w atn phase)
        → lines_by v true (phase_leaving v atn phase) (phase_leaving v atn phase).to
        ≡ lines_by w true (phase_leaving w atn phase) (phase_leaving w atn phase).to
    inward phase e g = (λ i. lines_by v true (e i) (e i).to)
        ∙ lines_in v w (phase_leaving w atn phase) (phase_leaving w atn phase).to g

    moving : (phase : Phase) (l : Leaving) (h : HaveSameTask true phase p tv tw) → IsSameCommand h.one h.other
        → h.one.status ≡ h.other.status → GiveSameBytes v w l
    moving phase l h c e = record {
      status = statuses_same true phase p tv tw h e;
      bytes = bytes_same (policy_of def) true phase p tv tw given (one_if l.done) 0 h c;
    }

    named : (y : Bool) (h : HaveSameTask true phases.MessageIn p tv tw) (c : Next) → p.next ≡ c
        → (unless_attention y (after_messages v p.next)) ≡ (unless_attention y (after_messages w p.next))
        → lines_by v true (unless_attention y (after_messages v p.next))
        (unless_attention y (after_messages v p.next)).to
        ≡ lines_by w true (unless_attention y (after_messages w p.next))
        (unless_attention y (after_messages w p.next)).to
    named true h c n e = refl
    named false h nexts.Command n e = (λ i. lines_by v true (after_messages v (n i)) (after_messages v (n i)).to)
        ∙ (λ i. lines_by w true (after_messages w (sym n i)) (after_messages w (sym n i)).to)
    named false h nexts.FreeBus n e = (λ i. lines_by v true (after_messages v (n i)) (after_messages v (n i)).to)
        ∙ (λ i. lines_by w true (after_messages w (sym n i)) (after_messages w (sym n i)).to)
    named false h nexts.Status n e = (λ i. lines_by v true (after_messages v (n i)) (after_messages v (n i)).to)
        ∙ (λ i. record (phase_lines phases.Status) {
          data_bits = (byte_set (statuses_same true phases.MessageIn p tv tw h
              (h.status (λ j. goes_on (n j) || heard.is_status_next (n j))) i)).data_bits;
        }) ∙ (λ i. lines_by w true (after_messages w (sym n i)) (after_messages w (sym n i)).to)
    named false h nexts.GoOn n e = (λ i. lines_by v true (e i) (e i).to)
        ∙ lines_in v w (after_messages w p.next) (after_messages w p.next).to
        (moving phases.MessageIn (after_messages w p.next) h (h.command (λ i. goes_on (n i) || false))
        (h.status (λ i. goes_on (n i) || heard.is_status_next (n i))))

    ended : (y : Bool) → lines_by v true (phase_leaving v y phases.Status) (phase_leaving v y phases.Status).to
        ≡ lines_by w true (phase_leaving w y phases.Status) (phase_leaving w y phases.Status).to
    ended true = refl
    ended false = refl

    by_phase : (phase : Phase) → AreParts true phase p x tv tw av aw → IsCommandOver phase p tw
        → phase_leaving v atn phase ≡ phase_leaving w atn phase → exit_lines v atn phase ≡ exit_lines w atn phase
    by_phase phases.MessageOut q over e = outward phases.MessageOut e
    by_phase phases.Command q over e = outward phases.Command e
    by_phase phases.DataOut q over e = outward phases.DataOut e
    by_phase phases.Status q over e = ended atn
    by_phase phases.DataIn q over e =
        let h : HaveSameTask true phases.DataIn p tv tw = q.task refl in
        inward phases.DataIn e
        (moving phases.DataIn (phase_leaving w atn phases.DataIn) h (h.command refl) (h.status refl))
    by_phase phases.MessageIn q over e = named atn (q.task refl) p.next refl e

-- ---- how long it waits

abbrev wait_in : Serving → Phase → ℕ
wait_in v phase = if is_command_phase phase && waits_seek v.plan v.arrival then seek_by v.def else 0

wait_parts : (def : Option TargetDef) (p : Plan) (x : Bool) (given : List ℕ) (tv tw : Option Task)
    (av aw : Arrival) (phase : Phase) → AreParts true phase p x tv tw av aw → IsCommandOver phase p tw
    → wait_in (serves def (renegotiated p x) tv given av) phase ≡ wait_in (serves def p tw given aw) phase
wait_parts def p x given tv tw av aw phases.MessageOut q over = refl
wait_parts def p x given tv tw av aw phases.MessageIn q over = refl
wait_parts def p x given tv tw av aw phases.DataIn q over = refl
wait_parts def p x given tv tw av aw phases.DataOut q over = refl
wait_parts def p x given tv tw av aw phases.Status q over = refl
wait_parts def p x given tv tw av aw phases.Command q over = by_struck p.struck refl
  where
    by_struck : (y : Bool) → p.struck ≡ y
        → (if waits_seek p av then seek_by def else 0) ≡ (if waits_seek p aw then seek_by def else 0)
    by_struck true e = (λ i. if waits_seek (record p { struck = e i }) av then seek_by def else 0)
        ∙ (λ i. if waits_seek (record p { struck = sym e i }) aw then seek_by def else 0)
    by_struck false e = λ i. if waits_seek p (arrived_same def p x tv tw av aw q over e i) then seek_by def else 0

-- ---- which events it shows

opening_gives_no_status : (def : Option TargetDef) (p : Plan) → is_status_next (after_opening def p).to ≡ false
opening_gives_no_status def p = by p.said.aborts p.negotiates p.said.offer (request_by def)
  where
    asked : (m : Option MsgIn) → is_status_next (request_or_command m).to ≡ false
    asked None = refl
    asked (Some m) = refl

    by : (a : Option AbortKind) (y : Bool) (o : Option Agreement) (m : Option MsgIn)
        → is_status_next (if is_some a then bus_free else after_offer def y o).to ≡ false
    by (Some a) y o m = refl
    by None y (Some o) m = refl
    by None true None m = asked (request_by def)
    by None false None m = refl

abbrev turn_by : ProcId → Plan → Arrival → Phase → Bool → Bool → List Event
turn_by id p a phase replies had =
    newest_with (if replies && not had then reply_events id p a phase else []) (arrival_events id p a phase)

turn_parts : (def : Option TargetDef) (p : Plan) (x : Bool) (given : List ℕ) (tv tw : Option Task) (av aw : Arrival)
    (atn : Bool) (phase : Phase) (id : ProcId) → AreParts true phase p x tv tw av aw → IsCommandOver phase p tw
    → turn_events (serves def (renegotiated p x) tv given av) atn phase id
    ≡ turn_events (serves def p tw given aw) atn phase id
turn_parts def p x given tv tw av aw atn phase id q over =
    by_phase phase q over (leaving_parts def p x given tv tw av aw atn phase q over)
  where
    v : Serving
    v = serves def (renegotiated p x) tv given av

    w : Serving
    w = serves def p tw given aw

    replied : (phase : Phase) (h : HaveSameTask true phase p tv tw) → has_replied tv ≡ has_replied tw
    replied phase h = (λ i. has_replied (h.one_is i)) ∙ h.replied ∙ (λ i. has_replied (sym h.other_is i))

    -- where the arrival is the same
    turned : (phase : Phase) (a : Arrival) → HaveSameTask true phase p tv tw
        → phase_leaving v atn phase ≡ phase_leaving w atn phase
        → turn_by id p a phase (is_status_next (phase_leaving v atn phase).to) (has_replied tv)
        ≡ turn_by id p a phase (is_status_next (phase_leaving w atn phase).to) (has_replied tw)
    turned phase a h e = λ i. turn_by id p a phase (is_status_next (e i).to) (replied phase h i)

    by_cause : (c : Cause) → p.cause ≡ c → AreParts true phases.MessageOut p x tv tw av aw
        → phase_leaving v atn phases.MessageOut ≡ phase_leaving w atn phases.MessageOut
        → turn_events v atn phases.MessageOut id ≡ turn_events w atn phases.MessageOut id
    by_cause causes.Selected c q e =
        let none : is_status_next (phase_leaving v atn phases.MessageOut).to ≡ false =
        (λ i. is_status_next (message_out_leaving v (c i)).to) ∙ opening_gives_no_status def (renegotiated p x) in
        let other : is_status_next (phase_leaving w atn phases.MessageOut).to ≡ false =
        (λ i. is_status_next (message_out_leaving w (c i)).to) ∙ opening_gives_no_status def p in
        (λ i. turn_by id p av phases.MessageOut (none i) (has_replied tv))
        ∙ (λ i. turn_by id p aw phases.MessageOut (sym other i) (has_replied tw))
    by_cause causes.InMessage c q e = turned phases.MessageOut av (q.task (λ i. is_selected (c i))) e
    by_cause causes.InData c q e = turned phases.MessageOut av (q.task (λ i. is_selected (c i))) e
    by_cause causes.InStatus c q e = turned phases.MessageOut av (q.task (λ i. is_selected (c i))) e

    by_struck : (y : Bool) → p.struck ≡ y → AreParts true phases.Command p x tv tw av aw
        → IsCommandOver phases.Command p tw → phase_leaving v atn phases.Command ≡ phase_leaving w atn phases.Command
        → turn_events v atn phases.Command id ≡ turn_events w atn phases.Command id
    by_struck true s q over e =
        let replies : Bool = is_status_next (phase_leaving w atn phases.Command).to in
        turned phases.Command av (q.task refl) e
        ∙ (λ i. turn_by id (record p { struck = s i }) av phases.Command replies (has_replied tw))
        ∙ (λ i. turn_by id (record p { struck = sym s i }) aw phases.Command replies (has_replied tw))
    by_struck false s q over e = turned phases.Command av (q.task refl) e
        ∙ (λ i. turn_by id p (arrived_same def p x tv tw av aw q over s i) phases.Command
        (is_status_next (phase_leaving w atn phases.Command).to) (has_replied tw))

    by_phase : (phase : Phase) → AreParts true phase p x tv tw av aw
        → IsCommandOver phase p tw → phase_leaving v atn phase ≡ phase_leaving w atn phase
        → turn_events v atn phase id ≡ turn_events w atn phase id
    by_phase phases.MessageOut q over e = by_cause p.cause refl q e
    by_phase phases.MessageIn q over e = turned phases.MessageIn av (q.task refl) e
    by_phase phases.Command q over e = by_struck p.struck refl q over e
    by_phase phases.DataIn q over e = turned phases.DataIn av (q.task refl) e
    by_phase phases.DataOut q over e = turned phases.DataOut av (q.task refl) e
    by_phase phases.Status q over e = turned phases.Status av (q.task refl) e

-- ---- by the lines of the bus

io_is : (bus : LineSet) → bus.io ≡ is_in (phase_of bus)
io_is bus = go bus.msg bus.cd bus.io
  where
    go : (m c o : Bool) → o ≡ is_in (if m then (if o then phases.MessageIn else phases.MessageOut)
        else if c then (if o then phases.Status else phases.Command) else if o then phases.DataIn else phases.DataOut)
    go true c true = refl
    go true c false = refl
    go false true true = refl
    go false true false = refl
    go false false true = refl
    go false false false = refl

-- In a data phase the command moves data, and no other phase stands.
record IsDataPhase (phase : Phase) : Type 0 where
  moves : (next : Next) → moves_data phase next ≡ true
  opened : (c : Cause) → is_opening_in phase c ≡ false
  command : is_command_phase phase ≡ false

data_is : (bus : LineSet) → is_data bus ≡ true → IsDataPhase (phase_of bus)
data_is bus e = go bus.msg bus.cd bus.io e
  where
    go : (m c o : Bool) → (not m && not c) ≡ true
        → IsDataPhase (if m then (if o then phases.MessageIn else phases.MessageOut)
        else if c then (if o then phases.Status else phases.Command) else if o then phases.DataIn else phases.DataOut)
    go true c o f = cc
    go false true o f = cc
    go false false true f = record { moves = λ next. refl; opened = λ c. refl; command = refl }
    go false false false f = record { moves = λ next. refl; opened = λ c. refl; command = refl }

follows_same : (leaves : Bool) (v w : Serving) (pulsed : Bool) (bus : LineSet) (r : Handshakes)
    → (pulsed ≡ true → is_data bus ≡ true) → AreAgreeing leaves (phase_of bus) v w
    → follows_by v pulsed bus r ≡ follows_by w pulsed bus r
follows_same leaves v w false bus r d a =
    (λ i. follows_in (like_is leaves (phase_of bus) v w a i) r bus.atn (phase_of bus))
    ∙ follows_parts leaves w.def w.plan v.plan.negotiates w.given v.task w.task v.arrival w.arrival r bus.atn
    (phase_of bus) (parts_of leaves (phase_of bus) v w a)
follows_same leaves v w true bus r d a =
    let x : IsDataPhase (phase_of bus) = data_is bus (d refl) in
    let h : HaveSameTask leaves (phase_of bus) w.plan v.task w.task = a.task (x.opened w.plan.cause) in
    let c : IsSameCommand h.one h.other = h.command
    (λ i. x.moves w.plan.next i || arrives leaves (phase_of bus) w.plan h.other.whole) in
    (λ i. nat_lt r.requests (run_length_if (policy_of (a.def i)) v.task))
    ∙ (λ i. nat_lt r.requests (lengths_same (policy_of w.def) leaves (phase_of bus) w.plan v.task w.task h c i))

over_in : (w : Serving) (r : Handshakes) (atn : Bool) (phase : Phase) → follows_in w r atn phase ≡ false
    → IsCommandOver phase w.plan w.task
over_in w r atn phases.MessageOut e f g = cc
over_in w r atn phases.MessageIn e f g = cc
over_in w r atn phases.Status e f g = cc
over_in w r atn phases.DataIn e f g = cc
over_in w r atn phases.DataOut e f g = cc
over_in w r atn phases.Command e f g =
    go (has_whole_block w.task) ((λ i. not (sym g i) && not (has_whole_block w.task)) ∙ e)
  where
    go : (y : Bool) → (true && not y) ≡ false → y ≡ true
    go true k = refl
    go false k = cc

over_is : (w : Serving) (pulsed : Bool) (bus : LineSet) (r : Handshakes) → (pulsed ≡ true → is_data bus ≡ true)
    → follows_by w pulsed bus r ≡ false → IsCommandOver (phase_of bus) w.plan w.task
over_is w false bus r d e = over_in w r bus.atn (phase_of bus) e
over_is w true bus r d e = none (data_is bus (d refl)).command
  where
    none : is_command_phase (phase_of bus) ≡ false → IsCommandOver (phase_of bus) w.plan w.task
    none n f g = cc

-- ---- the same as the phase is left

pub leavings_agree : (v w : Serving) (pulsed : Bool) (bus : LineSet) (r : Handshakes)
    → (pulsed ≡ true → is_data bus ≡ true) → AreAgreeing true (phase_of bus) v w → follows_by w pulsed bus r ≡ false
    → leaving_by v true bus ≡ leaving_by w true bus
leavings_agree v w pulsed bus r d a e =
    (λ i. phase_leaving (like_is true (phase_of bus) v w a i) bus.atn (phase_of bus))
    ∙ leaving_parts w.def w.plan v.plan.negotiates w.given v.task w.task v.arrival w.arrival bus.atn (phase_of bus)
    (parts_of true (phase_of bus) v w a) (over_is w pulsed bus r d e)

ends_same : (n : Connection) (p : Plan) (x : Bool) (phase : Phase) (id : Option ProcId)
    → connection_end_events n (renegotiated p x) phase id ≡ connection_end_events n p phase id
ends_same n p x phases.MessageOut id = refl
ends_same n p x phases.MessageIn id = refl
ends_same n p x phases.Command id = refl
ends_same n p x phases.Status id = refl
ends_same n p x phases.DataIn id = refl
ends_same n p x phases.DataOut id = refl

pub events_agree : (v w : Serving) (pulsed : Bool) (bus : LineSet)
    (r : Handshakes) (n : Connection) (stands : Bool) (id : Option ProcId)
    → (pulsed ≡ true → is_data bus ≡ true) → AreAgreeing true (phase_of bus) v w → follows_by w pulsed bus r ≡ false
    → leaving_events v n true stands bus.atn (phase_of bus) id
    ≡ leaving_events w n true stands bus.atn (phase_of bus) id
events_agree v w pulsed bus r n stands id d a e =
    (λ i. leaving_events (like_is true (phase_of bus) v w a i) n true stands bus.atn (phase_of bus) id) ∙ go stands id
  where
    u : Serving
    u = serves w.def (renegotiated w.plan v.plan.negotiates) v.task w.given v.arrival

    go : (stands : Bool) (id : Option ProcId) → (if stands then turn_events_if u bus.atn (phase_of bus) id
        else connection_end_events n u.plan (phase_of bus) id)
        ≡ (if stands then turn_events_if w bus.atn (phase_of bus) id
        else connection_end_events n w.plan (phase_of bus) id)
    go true None = refl
    go true (Some id) = turn_parts w.def w.plan v.plan.negotiates w.given v.task w.task v.arrival w.arrival bus.atn
        (phase_of bus) id (parts_of true (phase_of bus) v w a) (over_is w pulsed bus r d e)
    go false id = ends_same n w.plan v.plan.negotiates (phase_of bus) id

-- ---- what it has to do in the phase

pub offers_agree : (v w : Serving) (asks pulsed : Bool) (bus : LineSet) (r : Handshakes)
    → (pulsed ≡ true → is_data bus ≡ true)
    → AreAgreeing (not asks && not (follows_by w pulsed bus r)) (phase_of bus) v w
    → AreAlike true pulsed asks bus.io r.requests (offering_by v true pulsed bus r) (offering_by w true pulsed bus r)
offers_agree v w asks pulsed bus r d a = record {
  follows = λ z. same;
  byte = λ z io driven. (λ i. phase_byte (like_is leaves phase v w a i) phase (a.plan i).messages 0 r.requests)
      ∙ byte_parts leaves w.def w.plan v.plan.negotiates w.given v.task w.task v.arrival w.arrival r.requests phase
      (parts_of leaves phase v w a);
  to = λ z ask stop some. drives (left ask stop) (other stop);
  wait = λ z ask stop some. waits (left ask stop) (other stop);
}
  where
    phase : Phase
    phase = phase_of bus

    leaves : Bool
    leaves = not asks && not (follows_by w pulsed bus r)

    same : follows_by v pulsed bus r ≡ follows_by w pulsed bus r
    same = follows_same leaves v w pulsed bus r d a

    other : follows_by v pulsed bus r ≡ false → follows_by w pulsed bus r ≡ false
    other stop = sym same ∙ stop

    left : asks ≡ false → follows_by v pulsed bus r ≡ false → AreAgreeing true phase v w
    left ask stop =
        let one : leaves ≡ true = λ i. not (ask i) && not (other stop i) in
        subst (λ (y : Bool). AreAgreeing y phase v w) one a

    drives : AreAgreeing true phase v w → follows_by w pulsed bus r ≡ false
        → (offering_by v true pulsed bus r).to ≡ (offering_by w true pulsed bus r).to
    drives b stop =
        let u : Serving = serves w.def (renegotiated w.plan v.plan.negotiates) v.task w.given v.arrival in
        (λ i. lines_by (like_is true phase v w b i) (io_is bus i)
        (phase_leaving (like_is true phase v w b i) bus.atn phase)
        (phase_leaving (like_is true phase v w b i) bus.atn phase).to)
        ∙ lines_parts w.def w.plan v.plan.negotiates w.given v.task w.task v.arrival w.arrival bus.atn phase
        (parts_of true phase v w b) (over_is w pulsed bus r d stop)
        ∙ (λ i. lines_by w (sym (io_is bus) i) (phase_leaving w bus.atn phase) (phase_leaving w bus.atn phase).to)

    waits : AreAgreeing true phase v w → follows_by w pulsed bus r ≡ false → seek_before v bus ≡ seek_before w bus
    waits b stop =
        (λ i. if command_is bus i && waits_seek (like_is true phase v w b i).plan (like_is true phase v w b i).arrival
        then seek_by (like_is true phase v w b i).def else 0)
        ∙ wait_parts w.def w.plan v.plan.negotiates w.given v.task w.task v.arrival w.arrival phase
        (parts_of true phase v w b) (over_is w pulsed bus r d stop)
        ∙ (λ i. if sym (command_is bus) i && waits_seek w.plan w.arrival then seek_by w.def else 0)
