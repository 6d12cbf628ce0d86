-- The course of a connection goes on by what its target hears.
use Rattle.std.proofs.Common.{ℕ, ◌≡◌, ◌∙◌, ◌≤◌, ◌<◌, ◌==◌, Bool, true, false, List, [], ◌∷◌, ◌++◌, refl, sym, subst}
use Rattle.std.proofs.Common.{length, take, Some}
use Rattle.std.specs.Prelude.{if◌then◌else◌, not, ◌&&◌, ◌%◌, nat_lt, min}
use Rattle.std.proofs.lemmas.Bool.{ltb-true, ltb-false}
use Rattle.std.proofs.lemmas.List.{take-append-le, take_all, length-append, length-take}
use native.Mathlib.Omega.{arith}
use Rattle.bus_trace.specs.declared.Row.{Row}
use Rattle.bus_trace.specs.declared.connection.Connection.{Connection}
use Rattle.bus_trace.specs.Phases.{is_command, is_message_out, changes_phase}
use Rattle.bus_trace.specs.Terms.{connection}
use Rattle.scenario.specs.Value.{ScenarioValue}
use Rattle.array_model.specs.Processes.{Process}
use Rattle.due_model.specs.story_model.specs.BusState.{RowReading, row_reading}
use Rattle.due_model.specs.dialogue_model.specs.declared.exchange.Hearing.{Hearing}
use Rattle.due_model.specs.dialogue_model.specs.declared.exchange.Leaving.{Leaving}
use Rattle.due_model.specs.dialogue_model.specs.declared.exchange.Plan.{Plan}
use Rattle.due_model.specs.dialogue_model.specs.Hearing.{hearing}
use Rattle.due_model.specs.dialogue_model.specs.Planning.{plan_after, plan_with_byte, plan_in_message_out}
use Rattle.due_model.specs.dialogue_model.specs.Planning.{plan_in_phase}
use Rattle.due_model.specs.dialogue_model.specs.Exchange.{plan_anew, plan_after_message, struck_plan}
use Rattle.due_model.specs.Plain.{IsPlain}
use Rattle.due_model.specs.RunState.{RunState, process_item, process_served}
use Rattle.due_model.specs.RunSteps.{run_state, served_after, is_for_process}
use Rattle.due_model.specs.Sights.{hearing_of}
use Rattle.target_units.specs.scsi_device.specs.Heard.{Instructions, instructions, instructions_after, instructions_on}
use Rattle.target_units.specs.scsi_device.specs.Heard.{instructions_with, leaves_opening, leaves_command, block_after}
use Rattle.target_course.specs.Plans.{plan_at, leaving_after}
use Rattle.target_course.specs.Courses.{CourseState, name_in, name_if, block_with, block_kept, course_told}
use Rattle.target_course.specs.Courses.{course_after, MOST_KEPT, IsTold, IsOfProcess, HasEnds, IsCourse}
use Rattle.target_course.proofs.Heard.{plan_goes_on}
use Rattle.target_course.proofs.Agreeing.{renegotiated}
use Rattle.bus_trace.proofs.Connections.{connection_stays}

-- ---- the plan

-- What is planned goes on alike, whether or not synchronous transfer may be negotiated.
plans_same : (w : Hearing) (l : Leaving) (p : Plan) (x : Bool)
    → plan_after w l (renegotiated p x) ≡ renegotiated (plan_after w l p) x
plans_same w l p x = by (changes_phase w.change)
  where
    q : Plan
    q = renegotiated p x

    message : (y : Bool) → (if y then plan_in_message_out w q else plan_anew q)
        ≡ renegotiated (if y then plan_in_message_out w p else plan_anew p) x
    message true = refl
    message false = refl

    phase : (y : Bool) → (if y then record (plan_anew q) { messages = l.messages; next = l.next }
        else if w.begun then plan_in_message_out w q else plan_anew q)
        ≡ renegotiated (if y then record (plan_anew p) { messages = l.messages; next = l.next }
        else if w.begun then plan_in_message_out w p else plan_anew p) x
    phase true = refl
    phase false = message w.begun

    heard : (y : Bool) → plan_after_message q y w.out ≡ renegotiated (plan_after_message p y w.out) x
    heard true = refl
    heard false = refl

    byte : (y : Bool) → (if y then plan_after_message q w.is_last w.out else q)
        ≡ renegotiated (if y then plan_after_message p w.is_last w.out else p) x
    byte true = heard w.is_last
    byte false = refl

    struck : (y : Bool) → (if y then struck_plan q else q) ≡ renegotiated (if y then struck_plan p else p) x
    struck true = refl
    struck false = refl

    crossed : (y : Bool)
        → (if y then plan_with_byte w q else if w.fault && not w.change.before.io then struck_plan q else q)
        ≡ renegotiated
        (if y then plan_with_byte w p else if w.fault && not w.change.before.io then struck_plan p else p) x
    crossed true = byte (is_message_out w.change.before)
    crossed false = struck (w.fault && not w.change.before.io)

    by : (y : Bool) → (if y then plan_in_phase w l q
        else if w.crosses then plan_with_byte w q else if w.fault && not w.change.before.io then struck_plan q else q)
        ≡ renegotiated (if y then plan_in_phase w l p
        else if w.crosses then plan_with_byte w p else if w.fault && not w.change.before.io then struck_plan p else p) x
    by true = phase (not (is_message_out w.change.after))
    by false = crossed w.crosses

-- How the phase is left matters only where it changes.
plans_left : (w : Hearing) (l m : Leaving) (p : Plan) → (changes_phase w.change ≡ true → l ≡ m)
    → plan_after w l p ≡ plan_after w m p
plans_left w l m p e = by (changes_phase w.change) e
  where
    by : (y : Bool) → (y ≡ true → l ≡ m) → (if y then plan_in_phase w l p
        else if w.crosses then plan_with_byte w p else if w.fault && not w.change.before.io then struck_plan p else p)
        ≡ (if y then plan_in_phase w m p
        else if w.crosses then plan_with_byte w p else if w.fault && not w.change.before.io then struck_plan p else p)
    by true f = λ i. plan_in_phase w (f refl i) p
    by false f = refl

-- ---- the command block

block_is : (w : Hearing) (block : List ℕ) → block_kept w (take MOST_KEPT block) ≡ take MOST_KEPT (block_after w block)
block_is w block = by (changes_phase w.change)
  where
    byte : ℕ
    byte = w.change.after.data_bits % 256

    entered : (y : Bool) → (if y then [] else take MOST_KEPT block) ≡ take MOST_KEPT (if y then [] else block)
    entered true = refl
    entered false = refl

    size : length (take MOST_KEPT block) ≡ min 11 (length block)
    size = length-take 11 block

    added : (y : Bool) → nat_lt (length (take MOST_KEPT block)) MOST_KEPT ≡ y
        → (if y then take MOST_KEPT block ++ byte ∷ [] else take MOST_KEPT block) ≡ take MOST_KEPT (block ++ byte ∷ [])
    added true e =
        let few : length (take MOST_KEPT block) < 11 = ltb-true (length (take MOST_KEPT block)) 11 e in
        let short : length block < 11 = omega (arith, few, size) in
        let all : take 11 block ≡ block = take_all 11 block (omega (arith, short)) in
        let more : take 11 (block ++ byte ∷ []) ≡ block ++ byte ∷ [] = take_all 11
        (block ++ byte ∷ []) (omega (arith, short, length-append block (byte ∷ []))) in
        (λ i. all i ++ byte ∷ []) ∙ sym more
    added false e =
        let most : 11 ≤ length (take MOST_KEPT block) = ltb-false (length (take MOST_KEPT block)) 11 e in
        let long : 11 ≤ length block = omega (arith, most, size) in
        sym (take-append-le 11 block (byte ∷ []) long)

    crossed : (y : Bool) → (if y then block_with (take MOST_KEPT block) byte else take MOST_KEPT block)
        ≡ take MOST_KEPT (if y then block ++ byte ∷ [] else block)
    crossed true = added (nat_lt (length (take MOST_KEPT block)) MOST_KEPT) refl
    crossed false = refl

    by : (y : Bool) → (if y then (if is_command w.change.after then [] else take MOST_KEPT block)
        else if w.crosses && is_command w.change.before then block_with (take MOST_KEPT block) byte
        else take MOST_KEPT block) ≡ take MOST_KEPT (if y then (if is_command w.change.after then [] else block)
        else if w.crosses && is_command w.change.before then block ++ byte ∷ [] else block)
    by true = entered (is_command w.change.after)
    by false = crossed (w.crosses && is_command w.change.before)

-- ---- what was told

told_on : (w : Hearing) (l : Leaving) (p : Plan) (x : Bool) (i : Instructions) (c : CourseState)
    → c.plan ≡ renegotiated p x → IsTold i c → IsTold (instructions_on w p i) (course_after w l c)
told_on w l p x i c e t = by c.known i.known t.known
  where
    named :
        (y : Bool) → (if y then name_in p.said else name_if i.opening) ≡ name_if (if y then Some p.said else i.opening)
    named true = refl
    named false = refl

    fresh : IsTold (instructions_with w p i) (record (course_told w c) { plan = plan_after w l c.plan })
    fresh = record {
      named = (λ j. if leaves_opening w (e j) then name_in (e j).said else t.named j) ∙ named (leaves_opening w p);
      block = (λ j. block_kept w (t.block j)) ∙ block_is w i.block;
      known = λ j. leaves_command w (e j);
    }

    by : (y z : Bool) → y ≡ z → IsTold (if z then i else instructions_with w p i)
        (record (if y then c else course_told w c) { plan = plan_after w l c.plan })
    by true true f = record { named = t.named; block = t.block; known = t.known }
    by false false f = fresh
    by true false f = absurd cc
    by false true f = absurd cc

current_on : (w : Hearing) (l : Leaving) (q : Plan) (i : Instructions) (p : Process) (c : CourseState)
    → IsOfProcess i p c → IsOfProcess (instructions_on w q i) p (course_after w l c)
current_on w l q i p c t = by c.known i.known t.known t.since
  where
    by : (y z : Bool) → y ≡ true → z ≡ true → IsOfProcess (if z then i else instructions_with w q i) p
        (record (if y then c else course_told w c) { plan = plan_after w l c.plan })
    by true true f g = record { named = t.named; block = t.block; known = t.known; since = t.since }
    by false z f g = absurd cc
    by true false f g = absurd cc

id_stays : (w : Hearing) (l : Leaving) (c : CourseState) → (course_after w l c).id ≡ c.id
id_stays w l c = by c.known
  where
    by : (y : Bool) → (if y then c else course_told w c).id ≡ c.id
    by true = refl
    by false = refl

-- ---- a row in the connection

pub course_goes_on :
    (s : ScenarioValue) (rows : List Row) (row : Row) (m n : Connection) (l : Leaving) (c : CourseState)
    → IsPlain s rows (run_state s rows) → IsPlain s (row ∷ rows) (run_state s (row ∷ rows))
    → hearing_of (run_state s rows) row (row_reading (run_state s rows).story.bus_state row) ≡ hearing rows row
    → connection rows ≡ Some m → connection (row ∷ rows) ≡ Some n
    → (changes_phase (hearing rows row).change ≡ true → l ≡ leaving_after s rows m.target) → IsCourse s rows m c
    → IsCourse s (row ∷ rows) n (course_after (hearing rows row) l c)
course_goes_on s rows row m n l c p q h x y left t = record {
  label_is = record {
    process_is = λ z e. id_stays w l c ∙ t.label_is.process_is z (sym served ∙ e);
    abort_is = λ z e. (λ j. (id_stays w l c j).command == 0) ∙ t.label_is.abort_is z (sym served ∙ e);
  };
  ends_are = λ z e. subst (λ (u : Connection). HasEnds u z) same (t.ends_are z (sym process_same ∙ e));
  plan_is = planned ∙ (λ i. renegotiated (plan_at s (row ∷ rows)) (sym (λ j. (planned j).negotiates) i));
  negotiates_is =
      λ e. (λ j. (planned j).negotiates) ∙ t.negotiates_is ((λ j. is_for_process (sym served j)) ∙ e) ∙ sym kept;
  told = λ e. subst (λ (u : Instructions). IsTold u (course_after w l c)) (sym instructed)
      (told_on w l plan c.plan.negotiates (instructions s rows) c t.plan_is (t.told ((λ j. (same j).reselected) ∙ e)));
  current = λ e z f. subst (λ (u : Instructions). IsOfProcess u z (course_after w l c)) (sym instructed) (current_on w l
      plan (instructions s rows) z c (t.current ((λ j. (same j).reselected) ∙ e) z (sym process_same ∙ f)));
}
  where
    k : RunState
    k = run_state s rows

    d : RowReading
    d = row_reading k.story.bus_state row

    w : Hearing
    w = hearing rows row

    plan : Plan
    plan = plan_at s rows

    same : m ≡ n
    same = connection_stays rows row m n x y

    served : (run_state s (row ∷ rows)).served ≡ k.served
    served = λ i. served_after s k ((p.connection ∙ x) i) ((q.connection ∙ y) i)

    process_same : process_served s (run_state s (row ∷ rows)) ≡ process_served s k
    process_same = λ i. process_item s (served i)

    goes_on : plan_at s (row ∷ rows) ≡ plan_after w (leaving_after s rows m.target) plan
    goes_on = plan_goes_on s rows row m n p q h x y

    planned : plan_after w l c.plan ≡ renegotiated (plan_at s (row ∷ rows)) c.plan.negotiates
    planned =
        (λ i. plan_after w l (t.plan_is i))
        ∙ plans_same w l plan c.plan.negotiates
        ∙ (λ i. renegotiated (plans_left w l (leaving_after s rows m.target) plan left i) c.plan.negotiates)
        ∙ (λ i. renegotiated (sym goes_on i) c.plan.negotiates)

    kept : (plan_at s (row ∷ rows)).negotiates ≡ plan.negotiates
    kept = (λ i. (goes_on i).negotiates)
        ∙ (λ i. (plans_same w (leaving_after s rows m.target) plan plan.negotiates i).negotiates)

    instructed : instructions s (row ∷ rows) ≡ instructions_on w plan (instructions s rows)
    instructed = λ i. instructions_after ((p.connection ∙ x) i) ((q.connection ∙ y) i) (h i) plan (instructions s rows)
