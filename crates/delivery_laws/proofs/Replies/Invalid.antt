-- A command that is not valid is answered with CHECK CONDITION where no attention stands, and the sense of what is
-- wrong with it first (7.2, 8.2).
use Rattle.delivery_laws.proofs
use proofs.Names.{ℕ, ◌≡◌, Bool, true, false, not, ◌&&◌, ◌||◌, ◌∙◌, List, [], ◌∷◌, ◌++◌, Option, Some, None, Result, Ok}
use proofs.Names.{Err, refl, sym, ap, not-false, not-true, same_Some, list_all, if◌then◌else◌, is_some, and_second}
use proofs.Names.{wrong, wrong', Event, command_of, tape_command_of, CdbFault, Command, INQUIRY, REQUEST_SENSE}
use proofs.Names.{TapeCommand, has_target, unit_of, is_tape, ScenarioValue, Obeys, CmdDef, UnitDef, Passes}
use proofs.Names.{absent_executed, faulty_executed, outside_executed, sense_of_fault, tape_faulty_executed}
use proofs.Names.{sense_opcode, CommandContext, Reply, check_condition, execution, is_good_range, is_opcode}
use proofs.Names.{is_request_sense, needs_unit, range_of, unit_not_supported, command_at, process_by, process_if, Array}
use proofs.Names.{Nexus, UnitState, nexus_of, unit_state_at, command_id, fits_unit, is_sound_command, is_valid}
use proofs.Names.{lines_always, kinds_always, none_tape, AreOfLines, IsOfLine, AreOfKinds, none_some, by_bool}
use proofs.Names.{by_option, HasRun, checked_sense, fault_sense, is_calm_event, is_checked, is_tape_fault}
use proofs.{Names.{tape_fault_sense}, Replies.Valid.{IsTapeAt, calm_context, fair_after, plain_place, tape_place}}
use Rattle.due_model.specs.array_model.specs.Steps

-- ---- the checks

-- Neither INQUIRY nor REQUEST SENSE, and it does not fit its unit.
record IsUnsound (d : Option UnitDef) (cdb : List ℕ) (c : Command) : Type 0 where
  inquiry : is_opcode cdb INQUIRY ≡ false
  sense : is_opcode cdb REQUEST_SENSE ≡ false
  fits : fits_unit d c ≡ false

unsound : (d : Option UnitDef) (cdb : List ℕ) (c : Command)
    → (is_opcode cdb INQUIRY || is_opcode cdb REQUEST_SENSE || fits_unit d c) ≡ false → IsUnsound d cdb c
unsound d cdb c e = go (is_opcode cdb INQUIRY) refl (is_opcode cdb REQUEST_SENSE) refl e
  where
    go : (x : Bool) → is_opcode cdb INQUIRY ≡ x → (y : Bool) → is_opcode cdb REQUEST_SENSE ≡ y
        → (x || y || fits_unit d c) ≡ false → IsUnsound d cdb c
    go true f y g z = wrong z
    go false f true g z = wrong z
    go false f false g z = record { inquiry = f; sense = g; fits = z }

-- What is wrong with it, where its unit is there or not needed.
wrong_block : (c : CmdDef) (m : CommandContext) (sent : List ℕ) → m.contents.reel ≡ None
    → (not m.present && needs_unit c.cdb) ≡ false → m.attention ≡ None
    → ((x : Command) → command_of c.cdb ≡ Ok x → is_good_range m.contents.count (range_of x) ≡ false)
    → (execution m c.cdb sent).reply ≡ check_condition (fault_sense (command_of c.cdb))
wrong_block c m sent disk there calm range = go (command_of c.cdb) refl
  where
    passes : Passes m c.cdb
    passes = record { there = there; calm = λ sense a. none_some sense (sym calm ∙ a) }

    by_fault : (f : CdbFault) → check_condition (sense_of_fault f) ≡ check_condition (fault_sense (Err f))
    by_fault CdbFault.Opcode = refl
    by_fault CdbFault.Length = refl
    by_fault CdbFault.Field = refl

    go : (r : Result Command CdbFault) → command_of c.cdb ≡ r
        → (execution m c.cdb sent).reply ≡ check_condition (fault_sense r)
    go (Ok x) e = λ i. (outside_executed m c.cdb sent x disk passes e (range x e) i).reply
    go (Err f) e = (λ i. (faulty_executed m c.cdb sent f disk passes e i).reply) ∙ by_fault f

-- At no tape.
disk_refuses : (s : ScenarioValue) (a : Array) (q : Nexus) (c : CmdDef) (sent : List ℕ) → AreOfLines s a
    → (Steps.context_at a q (unit_state_at a.units c.target c.unit)).contents.reel ≡ None → a.attentions ≡ []
    → is_sound_command s c (command_of c.cdb) ≡ false
    → (execution (Steps.context_at a q (unit_state_at a.units c.target c.unit)) c.cdb sent).reply
    ≡ check_condition (if not (is_some (unit_of s c.target c.unit)) && needs_unit c.cdb then unit_not_supported
    else fault_sense (command_of c.cdb))
disk_refuses s a q c sent lines disk calm unsound_is =
    by (unit_of s c.target c.unit) refl (unit_state_at a.units c.target c.unit) (lines c.target c.unit) disk
  where
    bad : (d : Option UnitDef) → unit_of s c.target c.unit ≡ d → (y : Command) → command_of c.cdb ≡ Ok y
        → IsUnsound d c.cdb y
    bad d e y is =
        unsound d c.cdb y ((λ i. is_opcode c.cdb INQUIRY || is_opcode c.cdb REQUEST_SENSE || fits_unit (sym e i) y)
        ∙ (λ i. is_sound_command s c (sym is i)) ∙ unsound_is)

    by : (d : Option UnitDef) → unit_of s c.target c.unit ≡ d → (u : Option UnitState) → IsOfLine d u
        → (Steps.context_at a q u).contents.reel ≡ None → (execution (Steps.context_at a q u) c.cdb sent).reply
        ≡ check_condition (if not (is_some (unit_of s c.target c.unit)) && needs_unit c.cdb then unit_not_supported
        else fault_sense (command_of c.cdb))
    by None e None line disk = needs (needs_unit c.cdb) refl ∙ (λ i. check_condition
        (if not (is_some (sym e i)) && needs_unit c.cdb then unit_not_supported else fault_sense (command_of c.cdb)))
      where
        m : CommandContext
        m = Steps.context_at a q None

        unneeded : needs_unit c.cdb ≡ false → (y : Command) → command_of c.cdb ≡ Ok y
            → is_good_range m.contents.count (range_of y) ≡ false
        unneeded f y is =
            let w : IsUnsound None c.cdb y = bad None e y is in
            let needed : (not false && not (is_request_sense (command_of c.cdb))) ≡ false =
            (λ i. not (sym w.inquiry i) && not (is_request_sense (command_of c.cdb))) ∙ f in
            wrong (sym (sense_opcode c.cdb (not-false (is_request_sense (command_of c.cdb)) needed)) ∙ w.sense)

        needs : (x : Bool) → needs_unit c.cdb ≡ x → (execution m c.cdb sent).reply
            ≡ check_condition (if not false && x then unit_not_supported else fault_sense (command_of c.cdb))
        needs true f = λ i. (absent_executed m c.cdb sent f i).reply
        needs false f = wrong_block c m sent refl f (calm_context a q None calm) (unneeded f)
    by None e (Some u) line disk = absurd line
    by (Some d) e None line disk = absurd line
    by (Some d) e (Some u) line disk =
        wrong_block c (Steps.context_at a q (Some u)) sent disk refl (calm_context a q (Some u) calm)
        (λ y is. ap (λ (l : ℕ). is_good_range l (range_of y)) line.0 ∙ (bad (Some d) e y is).fits)
        ∙ (λ i. check_condition
        (if not (is_some (sym e i)) && needs_unit c.cdb then unit_not_supported else fault_sense (command_of c.cdb)))

-- At a tape its block has a fault.
tape_refuses : (s : ScenarioValue) (a : Array) (q : Nexus) (c : CmdDef) (sent : List ℕ) → AreOfLines s a
    → AreOfKinds s a → a.attentions ≡ [] → is_tape s c.target c.unit ≡ true
    → is_tape_fault (tape_command_of c.cdb) ≡ true
    → (execution (Steps.context_at a q (unit_state_at a.units c.target c.unit)) c.cdb sent).reply
    ≡ check_condition (tape_fault_sense (tape_command_of c.cdb))
tape_refuses s a q c sent lines kinds calm tape fault =
    (λ i. (execution (Steps.context_at a q (w.state_is i)) c.cdb sent).reply) ∙ by (tape_command_of c.cdb) refl fault
  where
    w : IsTapeAt a q c.target c.unit
    w = tape_place s a q c.target c.unit lines kinds tape

    m : CommandContext
    m = Steps.context_at a q (Some w.state)

    passes : Passes m c.cdb
    passes = record {
      there = refl;
      calm = λ sense z. none_some sense (sym (calm_context a q (Some w.state) calm) ∙ z);
    }

    by_fault : (f : CdbFault) → check_condition (sense_of_fault f) ≡ check_condition (tape_fault_sense (Err f))
    by_fault CdbFault.Opcode = refl
    by_fault CdbFault.Length = refl
    by_fault CdbFault.Field = refl

    by : (x : Result TapeCommand CdbFault) → tape_command_of c.cdb ≡ x → is_tape_fault x ≡ true
        → (execution m c.cdb sent).reply ≡ check_condition (tape_fault_sense x)
    by (Ok k) is e = wrong' e
    by (Err f) is e = (λ i. (tape_faulty_executed m c.cdb sent w.reel f w.reel_is passes is i).reply) ∙ by_fault f

pub checked_answers : (s : ScenarioValue) (a : Array) (q : Nexus) (c : CmdDef) (sent : List ℕ) → AreOfLines s a
    → AreOfKinds s a → a.attentions ≡ [] → is_checked s c ≡ true
    → (execution (Steps.context_at a q (unit_state_at a.units c.target c.unit)) c.cdb sent).reply
    ≡ check_condition (checked_sense s c)
checked_answers s a q c sent lines kinds calm checked = by_bool (is_tape s c.target c.unit)
    (λ tape. tape_refuses s a q c sent lines kinds calm tape ((λ i. if sym tape i
    then is_tape_fault (tape_command_of c.cdb) else not (is_sound_command s c (command_of c.cdb))) ∙ checked)
    ∙ sym ((λ i. check_condition (if not (there tape i) && needs_unit c.cdb then unit_not_supported
    else if tape i then tape_fault_sense (tape_command_of c.cdb) else fault_sense (command_of c.cdb)))))
    (λ disk. disk_refuses s a q c sent lines (plain_place s a q c.target c.unit kinds disk) calm (not-true
    (is_sound_command s c (command_of c.cdb)) ((λ i. if sym disk i then is_tape_fault (tape_command_of c.cdb)
    else not (is_sound_command s c (command_of c.cdb))) ∙ checked))
    ∙ sym (λ i. check_condition (if not (is_some (unit_of s c.target c.unit)) && needs_unit c.cdb
    then unit_not_supported
    else if disk i then tape_fault_sense (tape_command_of c.cdb) else fault_sense (command_of c.cdb))))
  where
    there : is_tape s c.target c.unit ≡ true → is_some (unit_of s c.target c.unit) ≡ true
    there tape = by_option (unit_of s c.target c.unit)
        (λ z. wrong' (sym (none_tape s c.target c.unit z) ∙ tape)) (λ d z. ap is_some z)

-- ---- in a calm history

calm_before : (later earlier : List Event) → list_all (λ (e : Event). is_calm_event e) (later ++ earlier) ≡ true
    → list_all (λ (e : Event). is_calm_event e) earlier ≡ true
calm_before [] earlier e = e
calm_before (x ∷ later) earlier e = calm_before later earlier
    (and_second (is_calm_event x) (list_all (λ (y : Event). is_calm_event y) (later ++ earlier)) e)

pub checked_ran : (s : ScenarioValue) (h : List Event) (m : ℕ) (c : CmdDef) (reply : Reply) → Obeys s
    → list_all (λ (e : Event). is_calm_event e) h ≡ true → command_at s.commands m ≡ Some c
    → is_checked s c ≡ true → HasRun s h (command_id m) reply → reply ≡ check_condition (checked_sense s c)
checked_ran s h m c reply o calm at checked w = w.reply_is ∙ (λ i. (execution
    (Steps.context_at w.array (nexus_of w.process) (unit_state_at w.array.units (sym same i).target (sym same i).unit))
    (sym same i).cdb w.process.sent).reply)
    ∙ checked_answers s w.array (nexus_of w.process) c w.process.sent (lines_always s w.earlier w.array w.array_is)
    (kinds_always s w.earlier w.array w.array_is) quiet checked
  where
    same : process_by s (command_id m) c ≡ w.process
    same =
        same_Some (process_by s (command_id m) c) w.process (sym (ap (process_if s (command_id m)) at) ∙ w.process_is)

    before : list_all (λ (e : Event). is_calm_event e) w.earlier ≡ true
    before = and_second (is_calm_event (Event.Run (command_id m))) (list_all (λ (e : Event). is_calm_event e) w.earlier)
        (calm_before w.later (Event.Run (command_id m) ∷ w.earlier)
        (ap (λ (x : List Event). list_all (λ (e : Event). is_calm_event e) x) (sym w.split) ∙ calm))

    quiet : w.array.attentions ≡ []
    quiet = (fair_after s w.earlier w.array o before w.array_is).calm
