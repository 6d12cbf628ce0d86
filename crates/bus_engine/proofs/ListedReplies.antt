-- What the plain disk array lists of a process: its status is GOOD, CHECK CONDITION or QUEUE FULL, one that is GOOD was
-- given as the process ran, that of an automatic REQUEST SENSE has no more bytes than sense data, and the initiator of
-- a command has room for its bytes (7.3, 7.5, 8.2.14).
use Rattle.std.proofs.Common.{◌≡◌, Bool, true, false, not, ◌&&◌, ◌||◌, ◌∙◌, List, [], ◌∷◌, Option, Some, None, ℕ, refl}
use Rattle.std.proofs.Common.{sym, ap, subst, ◌≤◌, length, arith}
use Rattle.std.specs.Prelude.{if◌then◌else◌, ◌==◌, is_none, is_some, ⊤}
use Rattle.std.proofs.lemmas.Bool.{or_left, or_right}
use Rattle.std.proofs.lemmas.Option.{same_Some}
use Rattle.bus_base.specs.declared.Event.{Event}
use Rattle.bus_base.specs.declared.ProcId.{ProcId}
use Rattle.bus_base.proofs.Tests.{wrong'}
use Rattle.cdb_codec.specs.declared.replies.TheConstants.{SENSE_LEN}
use Rattle.cdb_codec.specs.declared.sense.TheConstants.{ABORTED_COMMAND}
use Rattle.cdb_codec.specs.declared.status.TheConstants.{GOOD}
use Rattle.scenario.specs.Lookups.{has_target, is_tape, unit_of}
use Rattle.scenario.specs.Value.{ScenarioValue}
use Rattle.scenario.specs.Writing.{Obeys}
use Rattle.scenario.specs.declared.value.CmdDef.{CmdDef}
use Rattle.array_model.specs.ArrayHistory.{array_after, array_step, reply_in}
use Rattle.array_model.specs.Execution.{CommandContext, Reply, check_condition, execution, queue_full, sense_of}
use Rattle.array_model.specs.Processes.{Process, command_at, process_of, same_id, sense_block}
use Rattle.array_model.specs.Units.{Array, RunningProcess, UnitState, guest_at, is_held, nexus_of, unit_state_at}
use Rattle.array_model.specs.SoundArray.{IsSound}
use Rattle.array_model.proofs.SoundArrays.{history_sound}
use Rattle.array_model.proofs.ArrayReplies.{abort_lists, fail_lists, loss_lists, reset_lists, took, end_lists}
use Rattle.due_model.specs.story_model.specs.Right.{has_run, is_run_of}
use Rattle.delivery_laws.specs.book_laws.proofs.Common.Lookups.{id_is}
use Rattle.delivery_laws.specs.row_laws.proofs.Events.Replies.{accepted, refused, settles, running_id}
use Rattle.delivery_laws.specs.row_laws.proofs.Events.Others.{executed, reply_at}
use Rattle.delivery_laws.specs.row_laws.proofs.Common.Impossible.{none_some}
use Rattle.delivery_laws.specs.progress_laws.proofs.Debts.Senses.{sense_cdb}
use Rattle.delivery_laws.specs.progress_laws.proofs.Owed.Events.{running_own}
use Rattle.delivery_laws.specs.right_laws.proofs.Replies.Blocks.{HasWhole, whole_always}
use Rattle.delivery_laws.specs.scsi_device.proofs.FitLines.{command_fits, obeys_fits, seats_are}
use Rattle.delivery_laws.specs.target_units.specs.Rooms.{AreOfLines, AreOfKinds}
use Rattle.delivery_laws.specs.target_units.proofs.Rooms.{IsByLine, by_line, lines_always, kinds_always}
use Rattle.initiator.specs.Received.{data_room}
use Rattle.delivery_laws.specs.right_laws.proofs.Ran.Lengths.{given_few, most_given, none_few}
use Rattle.bus_engine.proofs.ReplyRooms.{room_there}
use Rattle.delivery_laws.proofs.Replies.Senses.{execution_known, is_known}
use Rattle.array_model.proofs.ExecutionFacts.{sense_fetched}
use Rattle.bus_base.specs.declared.Event.TheVariants as events
use Rattle.array_model.specs.Steps

-- ---- what a command answers as it runs

-- A REQUEST SENSE gives no more than the sense data (8.2.14).
sense_few : (m : CommandContext) (sent : List ℕ) → length (execution m sense_block sent).reply.bytes ≤ SENSE_LEN
sense_few m sent =
    subst (λ (n : ℕ). n ≤ SENSE_LEN) (λ i. length (sym (sense_fetched m sent) i).reply.bytes) (omega arith)

-- ---- of each process

pub record IsGiven (s : ScenarioValue) (history : List Event) (id : ProcId) (reply : Reply) : Type 0 where
  pub known : is_known reply.status ≡ true
  pub ran : (reply.status == GOOD) ≡ true → has_run history id ≡ true
  pub few : id.sense ≡ true → length reply.bytes ≤ SENSE_LEN
  pub room : id.sense ≡ false → (c : CmdDef) → command_at s.commands id.command ≡ Some c → has_target s c.target ≡ true
      → length reply.bytes ≤ data_room s c

abbrev pub AreGiven : ScenarioValue → List Event → List (ProcId × Reply) → Type 0
AreGiven s history replies =
    (id : ProcId) (reply : Reply) → reply_in replies id ≡ Some reply → IsGiven s history id reply

more : (s : ScenarioValue) (h : List Event) (e : Event) (id : ProcId) (reply : Reply) → IsGiven s h id reply
    → IsGiven s (e ∷ h) id reply
more s h e id reply g = record {
  known = g.known;
  ran = λ z. or_right (is_run_of id e) (has_run h id) (g.ran z);
  few = g.few;
  room = g.room;
}

no_more : (s : ScenarioValue) (h : List Event) (e : Event) (replies after : List (ProcId × Reply)) → after ≡ replies
    → AreGiven s h replies → AreGiven s (e ∷ h) after
no_more s h e replies after is g = subst (λ (x : List (ProcId × Reply)). AreGiven s (e ∷ h) x) (sym is)
    (λ id reply z. more s h e id reply (g id reply z))

one_more : (s : ScenarioValue) (h : List Event) (e : Event) (replies after : List (ProcId × Reply))
    (id : ProcId) (reply : Reply) → after ≡ (id, reply) ∷ replies
    → ((x : ProcId) → same_id id x ≡ true → IsGiven s (e ∷ h) x reply) → AreGiven s h replies → AreGiven s (e ∷ h) after
one_more s h e replies after id reply is own g =
    subst (λ (x : List (ProcId × Reply)). AreGiven s (e ∷ h) x) (sym is) (λ x r z. go x r (same_id id x) refl z)
  where
    go : (x : ProcId) (r : Reply) (q : Bool) → same_id id x ≡ q
        → (if q then Some reply else reply_in replies x) ≡ Some r → IsGiven s (e ∷ h) x r
    go x r true f z = subst (λ (y : Reply). IsGiven s (e ∷ h) x y) (same_Some reply r z) (own x f)
    go x r false f z = more s h e x r (g x r z)

-- ---- event by event

-- What holds of the array after every history: its blocks are whole, of units as their lines say.
record IsAlong (s : ScenarioValue) (a : Array) : Type 0 where
  sound : IsSound s a
  lines : AreOfLines s a
  kinds : AreOfKinds s a
  whole : HasWhole a

-- The initiator of a command that runs has room for what it gives.
has_room : (s : ScenarioValue) (a : Array) (p : Process) (c : CmdDef) → IsByLine s p → Obeys s → AreOfLines s a
    → AreOfKinds s a → HasWhole a → command_at s.commands p.id.command ≡ Some c → has_target s c.target ≡ true
    → length (reply_at a p (unit_state_at a.units p.target p.unit)).bytes ≤ data_room s c
has_room s a p c by o lines kinds whole at there =
    let same : by.line ≡ c = same_Some by.line c (sym by.is ∙ at) in
    let target : p.target ≡ c.target = by.target ∙ ap (λ (x : CmdDef). x.target) same in
    let unit : p.unit ≡ c.unit = by.unit ∙ ap (λ (x : CmdDef). x.unit) same in
    let cdb : p.cdb ≡ c.cdb = by.cdb ∙ ap (λ (x : CmdDef). x.cdb) same in
    room_there s c (length (reply_at a p (unit_state_at a.units p.target p.unit)).bytes) there
    (command_fits s p.id.command c (obeys_fits s o) at).need
    (subst (λ (n : ℕ). length (reply_at a p (unit_state_at a.units p.target p.unit)).bytes ≤ n)
    (λ i. most_given (is_tape s (target i) (unit i)) (cdb i) (unit_of s (target i) (unit i)))
    (given_few s a p lines kinds whole))

ran : (s : ScenarioValue) (h : List Event) (a c : Array) (id : ProcId) (guest : Bool) (o : Option RunningProcess)
    → Obeys s → IsAlong s a → Steps.running_process a id ≡ o → Steps.run_step a guest o ≡ Some c
    → AreGiven s h a.replies → AreGiven s (events.Run id ∷ h) c.replies
ran s h a c id guest None o is f e g = none_some c e
ran s h a c id guest (Some r) o is f e g =
    go (is_none r.reply && (guest || not (is_held a.holds r.process.target r.process.unit))) e
  where
    u : Option UnitState
    u = unit_state_at a.units r.process.target r.process.unit

    own : r.process.id ≡ id
    own = running_id a id r f

    few : id.sense ≡ true → length (reply_at a r.process u).bytes ≤ SENSE_LEN
    few w = subst
        (λ (x : List ℕ). length (execution (Steps.context_at a (nexus_of r.process) u) x r.process.sent).reply.bytes
        ≤ SENSE_LEN) (sym (sense_cdb s id r.process w (running_own s a id r is.sound f)))
        (sense_few (Steps.context_at a (nexus_of r.process) u) r.process.sent)

    process_is : process_of s r.process.id ≡ Some r.process
    process_is = ap (process_of s) own ∙ running_own s a id r is.sound f

    room : r.process.id.sense ≡ false → (c : CmdDef) → command_at s.commands r.process.id.command ≡ Some c
        → has_target s c.target ≡ true → length (reply_at a r.process u).bytes ≤ data_room s c
    room plain c at there =
        has_room s a r.process c (by_line s r.process process_is plain) o is.lines is.kinds is.whole at there

    go : (x : Bool) → (if x then Some (Steps.after_execution_at a r.process u) else None) ≡ Some c
        → AreGiven s (events.Run id ∷ h) c.replies
    go true z = one_more s h (events.Run id) a.replies c.replies r.process.id (reply_at a r.process u)
        (took (Steps.after_execution_at a r.process u) c _ z (executed a r.process u).replies) (λ x same. record {
          known = execution_known (Steps.context_at a (nexus_of r.process) u) r.process.cdb r.process.sent;
          ran = λ w. or_left (same_id id x) (has_run h x) (ap (λ (y : ProcId). same_id y x) (sym own) ∙ same);
          few = λ w. few (ap (λ (y : ProcId). y.sense) (sym own ∙ id_is r.process.id x same) ∙ w);
          room = subst (λ (y : ProcId). y.sense ≡ false → (d : CmdDef) → command_at s.commands y.command ≡ Some d
              → has_target s d.target ≡ true → length (reply_at a r.process u).bytes ≤ data_room s d)
              (id_is r.process.id x same) room;
        }) g
    go false z = none_some c z

step_given : (s : ScenarioValue) (h : List Event) (a d : Array) (e : Event) → Obeys s → IsAlong s a
    → Steps.step s e a ≡ Some d → AreGiven s h a.replies → AreGiven s (e ∷ h) d.replies
step_given s h a d (events.Accept id) o is e g =
    settles (Steps.accept_step a (process_of s id)) d (λ (x : Array). AreGiven s (events.Accept id ∷ h) x.replies)
    (λ c k. no_more s h (events.Accept id) a.replies c.replies (accepted a c (process_of s id) k) g) e
step_given s h a d (events.Refuse id) o is e g = settles (Steps.refuse_step a (process_of s id)) d
    (λ (x : Array). AreGiven s (events.Refuse id ∷ h) x.replies) (λ c k. one_more s h
    (events.Refuse id) a.replies c.replies id queue_full (refused s a c id (process_of s id) refl k) (λ x same. record {
      known = refl;
      ran = λ z. wrong' z;
      few = λ z. omega arith;
      room = λ w c at there. none_few (data_room s c);
    }) g) e
step_given s h a d (events.Run id) o is e g = settles (Steps.run_step a (is_some (guest_at a.guests id))
    (Steps.running_process a id)) d (λ (x : Array). AreGiven s (events.Run id ∷ h) x.replies)
    (λ c k. ran s h a c id (is_some (guest_at a.guests id)) (Steps.running_process a id) o is refl k g) e
step_given s h a d (events.Fail id code) o is e g = settles
    (Steps.fail_step s a id (check_condition (sense_of ABORTED_COMMAND code 0x00)) (Steps.running_process a id)) d
    (λ (x : Array). AreGiven s (events.Fail id code ∷ h) x.replies) (λ c k. one_more s h
    (events.Fail id code) a.replies c.replies id (check_condition (sense_of ABORTED_COMMAND code 0x00))
    (fail_lists s a c id (check_condition (sense_of ABORTED_COMMAND code 0x00)) (Steps.running_process a id) k)
    (λ x same. record {
      known = refl;
      ran = λ z. wrong' z;
      few = λ z. omega arith;
      room = λ w c at there. none_few (data_room s c);
    }) g) e
step_given s h a d (events.End id status) o is e g = settles (Steps.end_step a status (Steps.running_process a id)) d
    (λ (x : Array). AreGiven s (events.End id status ∷ h) x.replies) (λ c k. no_more s h
    (events.End id status) a.replies c.replies (end_lists a c status (Steps.running_process a id) k) g) e
step_given s h a d (events.Lost id) o is e g = settles (Steps.loss_step a id) d (λ (x : Array). AreGiven s
    (events.Lost id ∷ h) x.replies) (λ c k. no_more s h (events.Lost id) a.replies c.replies (loss_lists a c id k) g) e
step_given s h a d (events.Aborted i t n what) o is e g = settles (Some (Steps.abort_step s a i t n what)) d
    (λ (x : Array). AreGiven s (events.Aborted i t n what ∷ h) x.replies)
    (λ c k. no_more s h (events.Aborted i t n what) a.replies c.replies
    (took (Steps.abort_step s a i t n what) c a.replies k (abort_lists s a i t n what)) g) e
step_given s h a d (events.Reset dev) o is e g = settles (Some (Steps.reset_step s a)) d
    (λ (x : Array). AreGiven s (events.Reset dev ∷ h) x.replies) (λ c k. no_more s h
    (events.Reset dev) a.replies c.replies (took (Steps.reset_step s a) c a.replies k (reset_lists s a)) g) e

-- ---- after every history

abbrev IfGiven : ScenarioValue → List Event → Option Array → Type 0
IfGiven s h None = ⊤
IfGiven s h (Some a) = AreGiven s h a.replies

given_after : (s : ScenarioValue) (h : List Event) → Obeys s → IfGiven s h (array_after s h)
given_after s [] o = λ id reply z. absurd (no_reply reply z)
  where
    no_reply : (reply : Reply) → (let o : Option Reply = None in o) ≡ Some reply → ⊥
    no_reply reply z = absurd cc
given_after s (e ∷ h) o = go (array_after s h) refl (given_after s h o)
  where
    by : (a : Array) → IsAlong s a → AreGiven s h a.replies → (b : Option Array) → Steps.step s e a ≡ b
        → IfGiven s (e ∷ h) b
    by a is g None z = tt
    by a is g (Some d) z = step_given s h a d e o is z g

    go : (b : Option Array) → array_after s h ≡ b → IfGiven s h b → IfGiven s (e ∷ h) (array_step s e b)
    go None z g = tt
    go (Some a) z g = by a (record {
      sound = history_sound s h a (seats_are s (obeys_fits s o)) z;
      lines = lines_always s h a z;
      kinds = kinds_always s h a z;
      whole = whole_always s h a o z;
    }) g (Steps.step s e a) refl

pub all_given : (s : ScenarioValue) (h : List Event) (a : Array) → Obeys s → array_after s h ≡ Some a
    → AreGiven s h a.replies
all_given s h a o e = subst (λ (b : Option Array). IfGiven s h b) e (given_after s h o)
