-- In a history without resets and aborts no attention stands, so a valid command that runs is answered GOOD (7.2, 7.3,
-- 8.2).
use Rattle.delivery_laws.proofs
use proofs.Names.{ℕ, ◌≡◌, ◌⊎◌, inl, inr, Bool, true, false, not, ◌&&◌, ◌||◌, ◌∙◌, List, [], ◌∷◌, ◌++◌, Option, Some}
use proofs.Names.{None, Result, Ok, Err, length, refl, sym, ap, subst, eqb-true, or_left, or_right, and_right}
use proofs.Names.{same_Some, list_all, list_any, if◌then◌else◌, ◌==◌, is_none, is_some, nat_lt, slice_index, ⊤, wrong'}
use proofs.Names.{and_first, and_second, Event, ProcId, command_of, sized_of, has_group_len, are_zero, spare_room}
use proofs.Names.{operation_of, tape_command_of, CdbFault, Command, Operation, INQUIRY, REQUEST_SENSE, ABORTED_COMMAND}
use proofs.Names.{CHECK_CONDITION, GOOD, TapeCommand, has_target, unit_of, is_tape, ScenarioValue, Obeys, CmdDef}
use proofs.Names.{UnitDef, fail_lists, loss_lists, took, end_lists, carried_executed, Passes, on_tape, tape_executed}
use proofs.Names.{command_good, inquiry_command, is_inquiry_or_faulty, history_sound, array_after, array_step, reply_in}
use proofs.Names.{CommandContext, Reply, check_condition, execution, is_good_range, is_opcode, is_request_sense}
use proofs.Names.{needs_unit, queue_full, range_of, sense_of, Process, command_at, process_of, process_if, process_by}
use proofs.Names.{same_id, Reel, IsSound, Array, Nexus, RunningProcess, UnitState, guest_at, is_held, nexus_of}
use proofs.Names.{nexuses_without, sense_of_nexus, senses_without, settled_array, unit_state_at, with_unit, command_id}
use proofs.Names.{fits_unit, is_sound_command, is_valid, is_plain_at_tape, obeys_fits, seats_are, lines_always}
use proofs.Names.{kinds_always, none_tape, AreOfLines, IsOfLine, AreOfKinds, IsOfKind, id_is, self_id, none_some}
use proofs.Names.{by_bool, by_option, executed, reply_at, accepted, refused, settles, running_id, running_own}
use proofs.Names.{is_given_up_by, is_calm_event}
use Rattle.due_model.specs.array_model.specs.Steps

-- ---- what a command without fault answers, where no attention stands and its range is good

run_good : (m : CommandContext) (cdb sent : List ℕ) (c : Command) → m.contents.reel ≡ None
    → (not m.present && needs_unit cdb) ≡ false → m.attention ≡ None → command_of cdb ≡ Ok c
    → is_good_range m.contents.count (range_of c) ≡ true → (execution m cdb sent).reply.status ≡ GOOD
run_good m cdb sent c disk there calm is range = (λ i. (carried_executed m cdb sent c disk
    (record { there = there; calm = λ sense a. none_some sense (sym calm ∙ a) }) is range i).reply.status)
    ∙ command_good m c sent

-- ---- INQUIRY and REQUEST SENSE without fault name no blocks, and need no unit

abbrev is_sense_or_faulty : Result Command CdbFault → Bool
is_sense_or_faulty (Ok (Command.RequestSense room)) = true
is_sense_or_faulty (Err fault) = true
is_sense_or_faulty _ = false

sized_sense : (cdb : List ℕ) → is_sense_or_faulty (sized_of (Some Operation.RequestSense) cdb) ≡ true
sized_sense cdb = go (has_group_len cdb) (are_zero (spare_room cdb))
  where
    go : (y z : Bool) → is_sense_or_faulty
        (if y then (if z then Ok (Command.RequestSense (slice_index cdb 4)) else Err CdbFault.Field)
        else Err CdbFault.Length) ≡ true
    go true true = refl
    go _ _ = refl

sense_command : (cdb : List ℕ) → is_opcode cdb REQUEST_SENSE ≡ true → is_sense_or_faulty (command_of cdb) ≡ true
sense_command cdb h = go (length cdb == 0) h
  where
    go : (y : Bool) → (not y && slice_index cdb 0 == REQUEST_SENSE) ≡ true
        → is_sense_or_faulty (if y then Err CdbFault.Length else sized_of (operation_of (slice_index cdb 0)) cdb) ≡ true
    go true e = refl
    go false e =
        let code : slice_index cdb 0 ≡ REQUEST_SENSE = eqb-true (slice_index cdb 0) REQUEST_SENSE e in
        (λ i. is_sense_or_faulty (sized_of (operation_of (code i)) cdb)) ∙ sized_sense cdb

inquiry_range : (blocks : ℕ) (c : Command) → is_inquiry_or_faulty (Ok c) ≡ true
    → is_good_range blocks (range_of c) ≡ true
inquiry_range blocks (Command.Inquiry room) e = refl
inquiry_range blocks _ e = wrong' e

sense_range : (blocks : ℕ) (c : Command) → is_sense_or_faulty (Ok c) ≡ true
    → (is_good_range blocks (range_of c) ≡ true) × (is_request_sense (Ok c) ≡ true)
sense_range blocks (Command.RequestSense room) e = (refl, refl)
sense_range blocks _ e = wrong' e

-- ---- a valid command at its unit

-- What a valid command asks of its unit: it is there, or not needed, and has its blocks.
record IsFit (s : ScenarioValue) (c : CmdDef) (present : Bool) (count : ℕ) : Type 0 where
  command : Command
  command_is : command_of c.cdb ≡ Ok command
  there : (not present && needs_unit c.cdb) ≡ false
  range : is_good_range count (range_of command) ≡ true

-- By what is at the place of the unit.
count_at : Option UnitState → ℕ
count_at None = 0
count_at (Some u) = u.contents.count

fit_unit : (s : ScenarioValue) (c : CmdDef) (d : Option UnitDef) (u : Option UnitState) (x : Command)
    → IsOfLine d u → command_of c.cdb ≡ Ok x → fits_unit d x ≡ true
    → (is_some u ≡ true) × ((v : UnitState) → u ≡ Some v → is_good_range v.contents.count (range_of x) ≡ true)
fit_unit s c None u x line is e = wrong' e
fit_unit s c (Some d) None x line is e = absurd line
fit_unit s c (Some d) (Some u) x line is e = (
  refl,
  λ v z. subst (λ (w : UnitState). is_good_range w.contents.count (range_of x) ≡ true) (same_Some u v z)
      (ap (λ (m : ℕ). is_good_range m (range_of x)) line.0 ∙ e),
)

-- The context of a process at its unit, where no attention stands.
pub calm_context : (a : Array) (q : Nexus) (u : Option UnitState) → a.attentions ≡ []
    → (Steps.context_at a q u).attention ≡ None
calm_context a q None e = λ i. sense_of_nexus (e i) q
calm_context a q (Some u) e = λ i. sense_of_nexus (e i) q

present_is : (a : Array) (q : Nexus) (u : Option UnitState) → (Steps.context_at a q u).present ≡ is_some u
present_is a q None = refl
present_is a q (Some u) = refl

answers_by_unit : (a : Array) (q : Nexus) (u : Option UnitState) (cdb sent : List ℕ) (c : Command)
    → (Steps.context_at a q u).contents.reel ≡ None → a.attentions ≡ [] → command_of cdb ≡ Ok c → is_some u ≡ true
    → ((v : UnitState) → u ≡ Some v → is_good_range v.contents.count (range_of c) ≡ true)
    → (execution (Steps.context_at a q u) cdb sent).reply.status ≡ GOOD
answers_by_unit a q None cdb sent c disk calm is some range = wrong' some
answers_by_unit a q (Some u) cdb sent c disk calm is some range =
    run_good (Steps.context_at a q (Some u)) cdb sent c disk refl (calm_context a q (Some u) calm) is (range u refl)

answers_anywhere : (a : Array) (q : Nexus) (u : Option UnitState) (cdb sent : List ℕ) (c : Command)
    → (Steps.context_at a q u).contents.reel ≡ None → a.attentions ≡ [] → command_of cdb ≡ Ok c
    → needs_unit cdb ≡ false → ((m : ℕ) → is_good_range m (range_of c) ≡ true)
    → (execution (Steps.context_at a q u) cdb sent).reply.status ≡ GOOD
answers_anywhere a q u cdb sent c disk calm is apart range = run_good (Steps.context_at a q u) cdb sent c disk
    (and_right (not (Steps.context_at a q u).present) (needs_unit cdb) apart) (calm_context a q u calm) is
    (range (Steps.context_at a q u).contents.count)

no_reel : (o : Option Reel) → is_some o ≡ false → o ≡ None
no_reel None e = refl
no_reel (Some r) e = wrong' (sym e)

-- What stands at the place of a command that is at no tape.
pub plain_place : (s : ScenarioValue) (a : Array) (q : Nexus) (t m : ℕ) → AreOfKinds s a → is_tape s t m ≡ false
    → (Steps.context_at a q (unit_state_at a.units t m)).contents.reel ≡ None
plain_place s a q t m kinds disk = go (unit_state_at a.units t m) (kinds t m)
  where
    go : (u : Option UnitState) → IsOfKind (is_tape s t m) u → (Steps.context_at a q u).contents.reel ≡ None
    go None k = refl
    go (Some v) k = no_reel v.contents.reel (k ∙ disk)

-- And of one that is at a tape.
pub record IsTapeAt (a : Array) (q : Nexus) (t m : ℕ) : Type 0 where
  pub state : UnitState
  pub state_is : unit_state_at a.units t m ≡ Some state
  pub reel : Reel
  pub reel_is : state.contents.reel ≡ Some reel

pub tape_place : (s : ScenarioValue) (a : Array) (q : Nexus) (t m : ℕ) → AreOfLines s a → AreOfKinds s a
    → is_tape s t m ≡ true → IsTapeAt a q t m
tape_place s a q t m lines kinds tape = go (unit_state_at a.units t m) refl (lines t m) (kinds t m)
  where
    on : (v : UnitState) → unit_state_at a.units t m ≡ Some v → (o : Option Reel) → v.contents.reel ≡ o
        → is_some o ≡ true → IsTapeAt a q t m
    on v e None d z = wrong' z
    on v e (Some r) d z = record { state = v; state_is = e; reel = r; reel_is = d }

    go : (u : Option UnitState) → unit_state_at a.units t m ≡ u → IsOfLine (unit_of s t m) u
        → IsOfKind (is_tape s t m) u → IsTapeAt a q t m
    go None e l k = by_option (unit_of s t m) (λ z. wrong' (sym (none_tape s t m z) ∙ tape))
        (λ d z. absurd (subst (λ (o : Option UnitDef). IsOfLine o None) z l))
    go (Some v) e l k = on v e v.contents.reel refl (k ∙ tape)

-- A tape carries these out wherever it stands.
plain_good : (m : CommandContext) (r : Reel) (c : TapeCommand) (sent : List ℕ) → is_plain_at_tape (Ok c) ≡ true
    → (on_tape m r c sent).reply.status ≡ GOOD
plain_good m r TapeCommand.TestUnitReady sent e = refl
plain_good m r TapeCommand.Rewind sent e = refl
plain_good m r (TapeCommand.RequestSense room) sent e = refl
plain_good m r (TapeCommand.Inquiry room) sent e = refl
plain_good m r _ sent e = wrong' e

tape_answers : (s : ScenarioValue) (a : Array) (q : Nexus) (c : CmdDef) (sent : List ℕ) → AreOfLines s a
    → AreOfKinds s a → a.attentions ≡ [] → is_tape s c.target c.unit ≡ true
    → is_plain_at_tape (tape_command_of c.cdb) ≡ true
    → (execution (Steps.context_at a q (unit_state_at a.units c.target c.unit)) c.cdb sent).reply.status ≡ GOOD
tape_answers s a q c sent lines kinds calm tape plain =
    (λ i. (execution (Steps.context_at a q (w.state_is i)) c.cdb sent).reply.status)
    ∙ by (tape_command_of c.cdb) refl plain
  where
    w : IsTapeAt a q c.target c.unit
    w = tape_place s a q c.target c.unit lines kinds tape

    m : CommandContext
    m = Steps.context_at a q (Some w.state)

    passes : Passes m c.cdb
    passes = record {
      there = refl;
      calm = λ sense z. none_some sense (sym (calm_context a q (Some w.state) calm) ∙ z);
    }

    by : (x : Result TapeCommand CdbFault) → tape_command_of c.cdb ≡ x → is_plain_at_tape x ≡ true
        → (execution m c.cdb sent).reply.status ≡ GOOD
    by (Ok k) is e = (λ i. (tape_executed m c.cdb sent w.reel k w.reel_is passes is i).reply.status)
        ∙ plain_good m w.reel k sent e
    by (Err fault) is e = wrong' e

disk_answers : (s : ScenarioValue) (a : Array) (q : Nexus) (c : CmdDef) (sent : List ℕ) → AreOfLines s a
    → (Steps.context_at a q (unit_state_at a.units c.target c.unit)).contents.reel ≡ None → a.attentions ≡ []
    → is_sound_command s c (command_of c.cdb) ≡ true
    → (execution (Steps.context_at a q (unit_state_at a.units c.target c.unit)) c.cdb sent).reply.status ≡ GOOD
disk_answers s a q c sent lines disk calm sound = go (command_of c.cdb) refl sound
  where
    u : Option UnitState
    u = unit_state_at a.units c.target c.unit

    Good : Type 0
    Good = (execution (Steps.context_at a q u) c.cdb sent).reply.status ≡ GOOD

    by_inquiry : (z : Command) → command_of c.cdb ≡ Ok z → is_opcode c.cdb INQUIRY ≡ true → Good
    by_inquiry z is e =
        answers_anywhere a q u c.cdb sent z disk calm is (λ i. not (e i) && not (is_request_sense (command_of c.cdb)))
        (λ n. inquiry_range n z ((λ i. is_inquiry_or_faulty (sym is i)) ∙ inquiry_command c.cdb e))

    by_sense : (z : Command) → command_of c.cdb ≡ Ok z → is_opcode c.cdb REQUEST_SENSE ≡ true → Good
    by_sense z is e =
        let known : is_sense_or_faulty (Ok z) ≡ true = (λ i. is_sense_or_faulty (sym is i)) ∙ sense_command c.cdb e in
        let senses : is_request_sense (command_of c.cdb) ≡ true = (λ i. is_request_sense (is i))
        ∙ (sense_range 0 z known).1 in
        answers_anywhere a q u c.cdb sent z disk calm is (and_right (not (is_opcode c.cdb INQUIRY))
        (not (is_request_sense (command_of c.cdb))) (ap not senses)) (λ n. (sense_range n z known).0)

    by_unit : (z : Command) → command_of c.cdb ≡ Ok z → fits_unit (unit_of s c.target c.unit) z ≡ true → Good
    by_unit z is e =
        let w = fit_unit s c (unit_of s c.target c.unit) u z (lines c.target c.unit) is e in
        answers_by_unit a q u c.cdb sent z disk calm is w.0 w.1

    either : (z : Command) → command_of c.cdb ≡ Ok z → (x y : Bool) → is_opcode c.cdb INQUIRY ≡ x
        → is_opcode c.cdb REQUEST_SENSE ≡ y → (x || y || fits_unit (unit_of s c.target c.unit) z) ≡ true → Good
    either z is true y ex ey e = by_inquiry z is ex
    either z is false true ex ey e = by_sense z is ey
    either z is false false ex ey e = by_unit z is e

    go : (r : Result Command CdbFault) → command_of c.cdb ≡ r → is_sound_command s c r ≡ true → Good
    go (Ok z) is e = either z is (is_opcode c.cdb INQUIRY) (is_opcode c.cdb REQUEST_SENSE) refl refl e
    go (Err fault) is e = wrong' e

valid_answers : (s : ScenarioValue) (a : Array) (q : Nexus) (c : CmdDef) (sent : List ℕ) → AreOfLines s a
    → AreOfKinds s a → a.attentions ≡ [] → is_valid s c ≡ true
    → (execution (Steps.context_at a q (unit_state_at a.units c.target c.unit)) c.cdb sent).reply.status ≡ GOOD
valid_answers s a q c sent lines kinds calm valid = by_bool (is_tape s c.target c.unit)
    (λ tape. tape_answers s a q c sent lines kinds calm tape ((λ i. if sym tape i
    then is_plain_at_tape (tape_command_of c.cdb) else is_sound_command s c (command_of c.cdb)) ∙ sound))
    (λ disk. disk_answers s a q c sent lines (plain_place s a q c.target c.unit kinds disk) calm ((λ i. if sym disk i
    then is_plain_at_tape (tape_command_of c.cdb) else is_sound_command s c (command_of c.cdb)) ∙ sound))
  where
    sound : (if is_tape s c.target c.unit then is_plain_at_tape (tape_command_of c.cdb)
        else is_sound_command s c (command_of c.cdb)) ≡ true
    sound = and_second (has_target s c.target) (if is_tape s c.target c.unit
        then is_plain_at_tape (tape_command_of c.cdb) else is_sound_command s c (command_of c.cdb)) valid

-- ---- the replies that are listed

-- A valid command is answered GOOD, unless it was given up.
abbrev pub AreFair : ScenarioValue → List Event → List (ProcId × Reply) → Type 0
AreFair s h replies = (m : ℕ) (c : CmdDef) (r : Reply) → command_at s.commands m ≡ Some c
    → is_valid s c ≡ true → reply_in replies (command_id m) ≡ Some r
    → (r.status ≡ GOOD) ⊎ (list_any (λ (e : Event). is_given_up_by (command_id m) e) h ≡ true)

later : (h : List Event) (e : Event) (id : ProcId) (x : Type 0)
    → x ⊎ (list_any (λ (y : Event). is_given_up_by id y) h ≡ true)
    → x ⊎ (list_any (λ (y : Event). is_given_up_by id y) (e ∷ h) ≡ true)
later h e id x (inl z) = inl z
later h e id x (inr z) = inr (or_right (is_given_up_by id e) (list_any (λ (y : Event). is_given_up_by id y) h) z)

no_more : (s : ScenarioValue) (h : List Event) (e : Event) (replies after : List (ProcId × Reply)) → after ≡ replies
    → AreFair s h replies → AreFair s (e ∷ h) after
no_more s h e replies after is g = subst (λ (x : List (ProcId × Reply)). AreFair s (e ∷ h) x) (sym is)
    (λ n c r at valid z. later h e (command_id n) (r.status ≡ GOOD) (g n c r at valid z))

one_more : (s : ScenarioValue) (h : List Event) (e : Event) (replies after : List (ProcId × Reply))
    (id : ProcId) (reply : Reply) → after ≡ (id, reply) ∷ replies
    → ((m : ℕ) (c : CmdDef) → command_at s.commands m ≡ Some c → is_valid s c ≡ true → id ≡ command_id m
    → (reply.status ≡ GOOD) ⊎ (is_given_up_by (command_id m) e ≡ true)) → AreFair s h replies → AreFair s (e ∷ h) after
one_more s h e replies after id reply is own g = subst (λ (x : List (ProcId × Reply)). AreFair s (e ∷ h) x) (sym is)
    (λ m c r at valid z. go m c r at valid (same_id id (command_id m)) refl z)
  where
    now : (m : ℕ) (r : Reply) → reply ≡ r → (reply.status ≡ GOOD) ⊎ (is_given_up_by (command_id m) e ≡ true)
        → (r.status ≡ GOOD) ⊎ (list_any (λ (y : Event). is_given_up_by (command_id m) y) (e ∷ h) ≡ true)
    now m r same (inl z) = inl (ap (λ (x : Reply). x.status) (sym same) ∙ z)
    now m r same (inr z) =
        inr (or_left (is_given_up_by (command_id m) e) (list_any (λ (y : Event). is_given_up_by (command_id m) y) h) z)

    go : (m : ℕ) (c : CmdDef) (r : Reply) → command_at s.commands m ≡ Some c → is_valid s c ≡ true → (q : Bool)
        → same_id id (command_id m) ≡ q → (if q then Some reply else reply_in replies (command_id m)) ≡ Some r
        → (r.status ≡ GOOD) ⊎ (list_any (λ (y : Event). is_given_up_by (command_id m) y) (e ∷ h) ≡ true)
    go m c r at valid true f z = now m r (same_Some reply r z) (own m c at valid (id_is id (command_id m) f))
    go m c r at valid false f z = later h e (command_id m) (r.status ≡ GOOD) (g m c r at valid z)

-- ---- event by event

record IsAlong (s : ScenarioValue) (a : Array) : Type 0 where
  sound : IsSound s a
  lines : AreOfLines s a
  kinds : AreOfKinds s a
  calm : a.attentions ≡ []

ran : (s : ScenarioValue) (h : List Event) (a c : Array) (id : ProcId) (guest : Bool) (o : Option RunningProcess)
    → IsAlong s a → Steps.running_process a id ≡ o → Steps.run_step a guest o ≡ Some c → AreFair s h a.replies
    → AreFair s (Event.Run id ∷ h) c.replies
ran s h a c id guest None is f e g = none_some c e
ran s h a c id guest (Some r) is f e g =
    go (is_none r.reply && (guest || not (is_held a.holds r.process.target r.process.unit))) e
  where
    u : Option UnitState
    u = unit_state_at a.units r.process.target r.process.unit

    good : (m : ℕ) (d : CmdDef) → command_at s.commands m ≡ Some d → is_valid s d ≡ true → r.process.id ≡ command_id m
        → (reply_at a r.process u).status ≡ GOOD
    good m d at valid own =
        let is_process : process_of s (command_id m) ≡ Some r.process =
        ap (process_of s) (sym own ∙ running_id a id r f) ∙ running_own s a id r is.sound f in
        let by : process_by s (command_id m) d ≡ r.process = same_Some
        (process_by s (command_id m) d) r.process (sym (ap (process_if s (command_id m)) at) ∙ is_process) in
        let target : d.target ≡ r.process.target = ap (λ (x : Process). x.target) by in
        let unit : d.unit ≡ r.process.unit = ap (λ (x : Process). x.unit) by in
        let cdb : d.cdb ≡ r.process.cdb = ap (λ (x : Process). x.cdb) by in
        (λ i. (execution (Steps.context_at a (nexus_of r.process) (unit_state_at a.units (sym target i) (sym unit i)))
        (sym cdb i) r.process.sent).reply.status)
        ∙ valid_answers s a (nexus_of r.process) d r.process.sent is.lines is.kinds is.calm valid

    go : (x : Bool) → (if x then Some (Steps.after_execution_at a r.process u) else None) ≡ Some c
        → AreFair s (Event.Run id ∷ h) c.replies
    go true z = one_more s h (Event.Run id) a.replies c.replies r.process.id (reply_at a r.process u)
        (took (Steps.after_execution_at a r.process u) c _ z (executed a r.process u).replies)
        (λ m d at valid own. inl (good m d at valid own)) g
    go false z = none_some c z

step_fair : (s : ScenarioValue) (h : List Event) (a d : Array) (e : Event) → IsAlong s a → is_calm_event e ≡ true
    → Steps.step s e a ≡ Some d → AreFair s h a.replies → AreFair s (e ∷ h) d.replies
step_fair s h a d (Event.Accept id) is calm e g = settles (Steps.accept_step a (process_of s id)) d
    (λ (x : Array). AreFair s (Event.Accept id ∷ h) x.replies)
    (λ c k. no_more s h (Event.Accept id) a.replies c.replies (accepted a c (process_of s id) k) g) e
step_fair s h a d (Event.Refuse id) is calm e g = settles (Steps.refuse_step a (process_of s id)) d
    (λ (x : Array). AreFair s (Event.Refuse id ∷ h) x.replies)
    (λ c k. one_more s h (Event.Refuse id) a.replies c.replies id queue_full (refused s a c id (process_of s id) refl k)
    (λ n x at valid own. inr (ap (λ (y : ProcId). same_id y (command_id n)) own ∙ self_id (command_id n))) g) e
step_fair s h a d (Event.Run id) is calm e g = settles (Steps.run_step a (is_some (guest_at a.guests id))
    (Steps.running_process a id)) d (λ (x : Array). AreFair s (Event.Run id ∷ h) x.replies)
    (λ c k. ran s h a c id (is_some (guest_at a.guests id)) (Steps.running_process a id) is refl k g) e
step_fair s h a d (Event.Fail id code) is calm e g = settles
    (Steps.fail_step s a id (check_condition (sense_of ABORTED_COMMAND code 0x00)) (Steps.running_process a id)) d
    (λ (x : Array). AreFair s (Event.Fail id code ∷ h) x.replies) (λ c k. one_more s h
    (Event.Fail id code) a.replies c.replies id (check_condition (sense_of ABORTED_COMMAND code 0x00))
    (fail_lists s a c id (check_condition (sense_of ABORTED_COMMAND code 0x00)) (Steps.running_process a id) k)
    (λ n x at valid own. inr (ap (λ (y : ProcId). same_id y (command_id n)) own ∙ self_id (command_id n))) g) e
step_fair s h a d (Event.End id status) is calm e g = settles (Steps.end_step a status (Steps.running_process a id)) d
    (λ (x : Array). AreFair s (Event.End id status ∷ h) x.replies) (λ c k. no_more s h
    (Event.End id status) a.replies c.replies (end_lists a c status (Steps.running_process a id) k) g) e
step_fair s h a d (Event.Lost id) is calm e g = settles (Steps.loss_step a id) d (λ (x : Array). AreFair s
    (Event.Lost id ∷ h) x.replies) (λ c k. no_more s h (Event.Lost id) a.replies c.replies (loss_lists a c id k) g) e
step_fair s h a d (Event.Aborted i t n what) is calm e g = wrong' calm
step_fair s h a d (Event.Reset dev) is calm e g = wrong' calm

-- ---- no attention stands

abbrev pub IsCalm : Array → Type 0
IsCalm a = a.attentions ≡ []

abbrev IfCalm : Option Array → Type 0
IfCalm None = ⊤
IfCalm (Some a) = IsCalm a

calm_if : (q : Bool) (a : Array) → IsCalm a → IfCalm (if q then Some a else None)
calm_if true a h = h
calm_if false a h = tt

calm_none : (q : Bool) (a : Array) → IsCalm a → IfCalm (if q then None else Some a)
calm_none true a h = tt
calm_none false a h = h

calm_accepted : (a : Array) (o : Option Process) → IsCalm a → IfCalm (Steps.accept_step a o)
calm_accepted a None h = tt
calm_accepted a (Some c) h = at (unit_state_at a.units c.target c.unit)
  where
    either : (u : UnitState) (q : Bool)
        → IfCalm (if q then Some (Steps.with_guest a c None) else Steps.queue_step a c u)
    either u true = h
    either u false = calm_if (nat_lt (Steps.process_count u) u.depth)
        (record a { units = with_unit a.units (record u { waiting = u.waiting ++ c ∷ [] }) }) h

    at : (u : Option UnitState) → IfCalm (Steps.accept_step_at a c u)
    at None = h
    at (Some u) = either u (is_request_sense (command_of c.cdb))

calm_refused : (a : Array) (o : Option Process) → IsCalm a → IfCalm (Steps.refuse_step a o)
calm_refused a None h = tt
calm_refused a (Some c) h = at (unit_state_at a.units c.target c.unit)
  where
    at : (u : Option UnitState) → IfCalm (Steps.refuse_step_at a c u)
    at None = tt
    at (Some u) = calm_if (not (is_request_sense (command_of c.cdb)) && Steps.process_count u == u.depth)
        (Steps.with_listed_reply (Steps.with_guest a c (Some queue_full)) c.id queue_full) h

calm_executed : (a : Array) (c : Process) (u : Option UnitState) → IsCalm a → IsCalm (Steps.after_execution_at a c u)
calm_executed a c u h = go (execution (Steps.context_at a (nexus_of c) u) c.cdb c.sent).reported u
  where
    go : (q : Bool) (v : Option UnitState) → (Steps.with_contents (Steps.without_attention a q (nexus_of c)) v
        (execution (Steps.context_at a (nexus_of c) u) c.cdb c.sent).contents).attentions ≡ []
    go true None = λ i. senses_without (h i) (nexus_of c)
    go true (Some v) = λ i. senses_without (h i) (nexus_of c)
    go false None = h
    go false (Some v) = h

calm_ran : (a : Array) (guest : Bool) (o : Option RunningProcess) → IsCalm a → IfCalm (Steps.run_step a guest o)
calm_ran a guest None h = tt
calm_ran a guest (Some r) h = calm_if
    (is_none r.reply && (guest || not (is_held a.holds r.process.target r.process.unit)))
    (Steps.after_execution_at a r.process (unit_state_at a.units r.process.target r.process.unit))
    (calm_executed a r.process (unit_state_at a.units r.process.target r.process.unit) h)

calm_failed : (s : ScenarioValue) (a : Array) (id : ProcId) (reply : Reply) (o : Option RunningProcess) → IsCalm a
    → IfCalm (Steps.fail_step s a id reply o)
calm_failed s a id reply (Some r) h = calm_if (is_none r.reply) (Steps.with_reply a id reply) h
calm_failed s a id reply None h = go (process_of s id)
  where
    go : (o : Option Process) → IfCalm (Steps.fail_step_of_new a id reply o)
    go None = tt
    go (Some c) = calm_none (Steps.is_waiting a.units id || Steps.has_ended a id)
        (Steps.with_listed_reply (Steps.with_guest a c (Some reply)) id reply) h

calm_ended : (a : Array) (status : ℕ) (o : Option RunningProcess) → IsCalm a → IfCalm (Steps.end_step a status o)
calm_ended a status None h = tt
calm_ended a status (Some r) h = by r.reply
  where
    stays : (reply : Reply) (x y : Bool) → (if x then record a {
      senses = (nexus_of r.process, reply.sense) ∷ senses_without a.senses (nexus_of r.process);
      holds = nexus_of r.process ∷ nexuses_without a.holds (nexus_of r.process);
    } else if y then record a {
      senses = senses_without a.senses (nexus_of r.process);
      holds = nexuses_without a.holds (nexus_of r.process);
    } else a).attentions ≡ []
    stays reply true y = h
    stays reply false true = h
    stays reply false false = h

    by : (o : Option Reply) → IfCalm (Steps.end_step_with a r.process status o)
    by None = tt
    by (Some reply) = calm_if (reply.status == status)
        (Steps.array_without (Steps.after_status a r.process reply) r.process.id) (stays reply
        (reply.status == CHECK_CONDITION) (reply.status == GOOD && is_request_sense (command_of r.process.cdb)))

calm_event : (s : ScenarioValue) (a : Array) (e : Event) → is_calm_event e ≡ true → IsCalm a
    → IfCalm (Steps.event_step s a e)
calm_event s a (Event.Accept id) q h = calm_accepted a (process_of s id) h
calm_event s a (Event.Refuse id) q h = calm_refused a (process_of s id) h
calm_event s a (Event.Run id) q h = calm_ran a (is_some (guest_at a.guests id)) (Steps.running_process a id) h
calm_event s a (Event.Fail id code) q h =
    calm_failed s a id (check_condition (sense_of ABORTED_COMMAND code 0x00)) (Steps.running_process a id) h
calm_event s a (Event.End id status) q h = calm_ended a status (Steps.running_process a id) h
calm_event s a (Event.Lost id) q h = calm_none (Steps.has_ended a id) (Steps.array_without a id) h
calm_event s a (Event.Aborted i t n what) q h = wrong' q
calm_event s a (Event.Reset dev) q h = wrong' q

calm_step : (s : ScenarioValue) (a d : Array) (e : Event) → is_calm_event e ≡ true → Steps.step s e a ≡ Some d
    → IsCalm a → IsCalm d
calm_step s a d e q st h = go (Steps.event_step s a e) (calm_event s a e q h) st
  where
    go : (o : Option Array) → IfCalm o → Steps.settled_array_if o ≡ Some d → IsCalm d
    go None f z = none_some d z
    go (Some b) f z = ap (λ (x : Array). x.attentions) (sym (same_Some (settled_array b) d z)) ∙ f

-- ---- after every history

pub record Fair (s : ScenarioValue) (h : List Event) (a : Array) : Type 0 where
  pub replies : AreFair s h a.replies
  pub calm : IsCalm a

pub fair_after : (s : ScenarioValue) (h : List Event) (a : Array) → Obeys s
    → list_all (λ (e : Event). is_calm_event e) h ≡ true → array_after s h ≡ Some a → Fair s h a
fair_after s [] a o calm e = subst (λ (x : Array). Fair s [] x) (same_Some _ a e)
    (record { replies = λ n c r at valid z. absurd (no_reply r z); calm = refl })
  where
    no_reply : (r : Reply) → (let x : Option Reply = None in x) ≡ Some r → ⊥
    no_reply r z = absurd cc
fair_after s (x ∷ h) a o calm e = go (λ b z. fair_after s h b o
    (and_second (is_calm_event x) (list_all (λ (y : Event). is_calm_event y) h) calm) z) (array_after s h) refl e
  where
    now : is_calm_event x ≡ true
    now = and_first (is_calm_event x) (list_all (λ (y : Event). is_calm_event y) h) calm

    go : ((b : Array) → array_after s h ≡ Some b → Fair s h b) → (b : Option Array) → array_after s h ≡ b
        → array_step s x b ≡ Some a → Fair s (x ∷ h) a
    go before None z st = none_some a st
    go before (Some b) z st =
        let was = before b z in
        record {
          replies = step_fair s h b a x (record {
            sound = history_sound s h b (seats_are s (obeys_fits s o)) z;
            lines = lines_always s h b z;
            kinds = kinds_always s h b z;
            calm = was.calm;
          }) now st was.replies;
          calm = calm_step s b a x now st was.calm;
        }

pub valid_replies : (s : ScenarioValue) (h : List Event) (a : Array) → Obeys s
    → list_all (λ (e : Event). is_calm_event e) h ≡ true → array_after s h ≡ Some a → AreFair s h a.replies
valid_replies s h a o calm e = (fair_after s h a o calm e).replies
