-- As the opening of a connection is left, an abort was heard in it unless the connection is for a process.
use Rattle.std.proofs.Common.{◌≡◌, Bool, true, false, List, [], ◌∷◌, ◌∙◌, refl, sym, Option, Some, None}
use Rattle.std.specs.Prelude.{◌&&◌, ◌||◌, ◌==◌, not, nat_lt, is_some, is_none, if◌then◌else◌}
use Rattle.std.proofs.lemmas.Bool.{and_parts, not-true}
use Rattle.bus_base.specs.declared.AbortKind.{AbortKind}
use Rattle.bus_trace.specs.Changes.{same_phase}
use Rattle.bus_trace.specs.LineSet.{LineSet, same}
use Rattle.bus_trace.specs.Phases.{is_data, is_message_out, changes_phase}
use Rattle.bus_trace.specs.Terms.{connection}
use Rattle.bus_trace.specs.Trace.{bus}
use Rattle.bus_trace.specs.declared.Row.{Row}
use Rattle.bus_trace.specs.declared.connection.Connection.{Connection}
use Rattle.bus_trace.proofs.Sets.{same_eq}
use Rattle.scenario.specs.Value.{ScenarioValue}
use Rattle.scenario.specs.declared.value.AbortDef.{AbortDef}
use Rattle.array_model.specs.Processes.{Process, process_of}
use Rattle.due_model.specs.story_model.specs.BusState.{RowReading, row_reading}
use Rattle.due_model.specs.story_model.specs.HistoryEvents.{abort_line_at}
use Rattle.due_model.specs.story_model.specs.Items.{Item, process, abort}
use Rattle.due_model.specs.dialogue_model.specs.Ends.{follows_by}
use Rattle.due_model.specs.dialogue_model.specs.Arrivals.{policy_of}
use Rattle.due_model.specs.dialogue_model.specs.Exchange.{plan_anew, plan_anew_if, said_with_if, struck_plan}
use Rattle.due_model.specs.dialogue_model.specs.NextPhase.{phase_of, phase_entry, phase_leaving}
use Rattle.due_model.specs.dialogue_model.specs.PhaseBytes.{follows_in, run_length_if}
use Rattle.due_model.specs.dialogue_model.specs.Planning.{plan_after, plan_in_phase, plan_in_message_out}
use Rattle.due_model.specs.dialogue_model.specs.Planning.{plan_with_byte}
use Rattle.due_model.specs.dialogue_model.specs.declared.exchange.Cause.TheVariants as causes
use Rattle.due_model.specs.dialogue_model.specs.declared.exchange.Hearing.{Hearing}
use Rattle.due_model.specs.dialogue_model.specs.declared.exchange.Leaving.{Leaving}
use Rattle.due_model.specs.dialogue_model.specs.declared.exchange.Phase.{Phase}
use Rattle.due_model.specs.dialogue_model.specs.declared.exchange.Phase.TheVariants as phases
use Rattle.due_model.specs.dialogue_model.specs.declared.exchange.Plan.{Plan}
use Rattle.due_model.specs.dialogue_model.specs.declared.exchange.Said.{Said}
use Rattle.due_model.specs.Faithful.{is_unit, is_process_named, is_kind, is_abort_named, is_item_named}
use Rattle.due_model.specs.Faithful.{is_opening_named}
use Rattle.due_model.specs.Faithful.{is_true_leaving}
use Rattle.due_model.specs.Plain.{IsPlain}
use Rattle.due_model.specs.RunState.{RunState, agreement_of, bus_of, drives_of, process_served}
use Rattle.due_model.specs.RunSteps.{run_state, is_for_process}
use Rattle.due_model.specs.Sights.{pace_of, serving_of, leaving}
use Rattle.target_units.specs.scsi_device.specs.Heard as hears
use Rattle.target_units.specs.scsi_device.specs.Heard.{Instructions, instructions, may_leave, is_said, is_known_item}
use Rattle.target_units.specs.scsi_device.specs.Heard.{is_of_scenario, is_served, is_opening, is_heard_process}
use Rattle.target_units.specs.scsi_device.specs.Heard.{is_heard_in, is_heard, is_to, is_true_turn, is_true_end}
use Rattle.target_units.specs.scsi_device.specs.Heard.{is_heard_on, is_heard_row, is_heard_after, heard}
use Rattle.due_model.proofs.Lookups.{named_none}

-- ---- phases

pub phase_same : (a b : LineSet) → same_phase a b ≡ true → phase_of a ≡ phase_of b
phase_same a b e =
    let two = and_parts (same a.msg b.msg && same a.cd b.cd) (same a.io b.io) e in
    let three = and_parts (same a.msg b.msg) (same a.cd b.cd) two.0 in
    let m : a.msg ≡ b.msg = same_eq a.msg b.msg three.0 in
    let c : a.cd ≡ b.cd = same_eq a.cd b.cd three.1 in
    let o : a.io ≡ b.io = same_eq a.io b.io two.1 in
    λ i.
    if m i then (if o i then phases.MessageIn else phases.MessageOut)
    else if c i then (if o i then phases.Status else phases.Command)
    else if o i then phases.DataIn
    else phases.DataOut

no_data : (b : LineSet) → phase_of b ≡ phases.MessageOut → is_data b ≡ false
no_data b e = go b.msg b.cd b.io e
  where
    go : (x y z : Bool) → (if x then (if z then phases.MessageIn else phases.MessageOut)
        else if y then (if z then phases.Status else phases.Command) else if z then phases.DataIn else phases.DataOut)
        ≡ phases.MessageOut → (not x && not y) ≡ false
    go true y z e = refl
    go false true true e = cc
    go false true false e = cc
    go false false true e = cc
    go false false false e = cc

is_same_as : (p : Phase) → hears.same_phase phases.MessageOut p ≡ true → p ≡ phases.MessageOut
is_same_as phases.MessageOut e = refl
is_same_as phases.MessageIn e = cc
is_same_as phases.Command e = cc
is_same_as phases.Status e = cc
is_same_as phases.DataIn e = cc
is_same_as phases.DataOut e = cc

-- ---- no byte of an opening that may be left was struck

last_of : (a b c : Bool) → (a || b || c) ≡ false → c ≡ false
last_of true b c e = cc
last_of false true c e = cc
last_of false false c e = e

unstruck : (s : ScenarioValue) (k : RunState) (n : Connection) → may_leave s k n ≡ true
    → phase_of (bus_of k) ≡ phases.MessageOut → k.exchange.plan.struck ≡ false
unstruck s k n e phase = last_of (k.handshakes.answers == 0) (bus_of k).atn k.exchange.plan.struck (sym as_in ∙ none)
  where
    begins : k.exchange.begun ≡ true
    begins = (and_parts k.exchange.begun (not (drives_of k n.target).req)
        (and_parts (k.exchange.begun && not (drives_of k n.target).req)
        (not (follows_by (serving_of s k n.target) (pace_of s k n.target).pulsed (bus_of k) k.handshakes)) e).0).0

    none : follows_by (serving_of s k n.target) (pace_of s k n.target).pulsed (bus_of k) k.handshakes ≡ false
    none = not-true (follows_by (serving_of s k n.target) (pace_of s k n.target).pulsed (bus_of k) k.handshakes)
        (and_parts (k.exchange.begun && not (drives_of k n.target).req)
        (not (follows_by (serving_of s k n.target) (pace_of s k n.target).pulsed (bus_of k) k.handshakes)) e).1

    plain : (pace_of s k n.target).pulsed ≡ false
    plain = λ i. begins i && no_data (bus_of k) phase i && nat_lt 0 (agreement_of k).offset

    as_in : follows_by (serving_of s k n.target) (pace_of s k n.target).pulsed (bus_of k) k.handshakes
        ≡ follows_in (serving_of s k n.target) k.handshakes (bus_of k).atn phases.MessageOut
    as_in = λ i. if plain i then nat_lt k.handshakes.requests
        (run_length_if (policy_of (serving_of s k n.target).def) (serving_of s k n.target).task)
        else follows_in (serving_of s k n.target) k.handshakes (bus_of k).atn (phase i)

-- ---- what the opening names is what is served

named_abort : (said : Said) (a : AbortDef) → is_abort_named said (Some a) ≡ true → is_some said.aborts ≡ true
named_abort said a e = go said.aborts (and_parts (is_unit said.unit a.unit) (is_kind said.aborts a.what) e).1
  where
    go : (x : Option AbortKind) → is_kind x a.what ≡ true → is_some x ≡ true
    go None f = cc
    go (Some y) f = refl

abort_told : (s : ScenarioValue) (said : Said) (served : Option Item) → is_item_named s said served ≡ true
    → is_of_scenario s served ≡ true → is_some said.aborts ≡ not (is_for_process served)
abort_told s said None e f = cc
abort_told s said (Some (process id)) e f = go (process_of s id) e f
  where
    go : (p : Option Process) → is_process_named said p ≡ true → is_some p ≡ true → is_some said.aborts ≡ false
    go None e f = cc
    go (Some p) e f = named_none said p e
abort_told s said (Some (abort n)) e f = go (abort_line_at s.aborts n) e f
  where
    go : (a : Option AbortDef) → is_abort_named said a ≡ true → is_some a ≡ true → is_some said.aborts ≡ true
    go None e f = cc
    go (Some a) e f = named_abort said a e

-- As it may be left.
told_so : (s : ScenarioValue) (k : RunState) (n : Connection) (i : Instructions) → is_heard_in s k n i ≡ true
    → may_leave s k n ≡ true → k.exchange.plan.cause ≡ causes.Selected → phase_of (bus_of k) ≡ phases.MessageOut
    → is_some k.exchange.plan.said.aborts ≡ not (is_for_process k.served)
told_so s k n i h leaves cause phase =
    abort_told s k.exchange.plan.said k.served
    (sym (λ j. unstruck s k n leaves phase j || is_item_named s k.exchange.plan.said k.served)
    ∙ sym (λ j. is_opening_named s k.exchange.plan k.served (cause j))
    ∙ sym (λ j. is_true_leaving s k (process_served s k) (phase j))
    ∙ sym (λ j. not (leaves j) || is_true_leaving s k (process_served s k) (phase_of (bus_of k)))
    ∙ two.0)
    (and_parts (is_of_scenario s k.served) (is_opening k || is_some (process_served s k)) three.1).0
  where
    three : (is_said s k n && is_known_item k n ≡ true) × (is_served s k ≡ true)
    three = and_parts (is_said s k n && is_known_item k n) (is_served s k)
        (and_parts (is_said s k n && is_known_item k n && is_served s k)
        (is_opening k || is_heard_process s k n i (process_served s k) (phase_of (bus_of k))) h).0

    two : (is_said s k n ≡ true) × (is_known_item k n ≡ true)
    two = and_parts (is_said s k n) (is_known_item k n) three.0

-- ---- rows

leaves_end : (s : ScenarioValue) (k next : RunState) (d : RowReading) (n : Connection) → d.change.before.rst ≡ false
    → is_heard_on s k next d (Some n) None ≡ true → may_leave s k n ≡ true
leaves_end s k next d n calm h =
    (and_parts (may_leave s k n) (is_none (leaving s k n.target).to) (sym (λ i. calm i || is_true_end s k n) ∙ h)).0

turns_so : (s : ScenarioValue) (k next : RunState) (d : RowReading) (n m : Connection) → changes_phase d.change ≡ true
    → is_heard_on s k next d (Some n) (Some m) ≡ true → is_true_turn s k n d ≡ true
turns_so s k next d n m change h = sym (λ i. not (change i) || is_true_turn s k n d)
    ∙ (and_parts (not d.change.before.rst) (not (changes_phase d.change) || is_true_turn s k n d) h).1

leaves_turn : (s : ScenarioValue) (k next : RunState) (d : RowReading) (n m : Connection)
    → changes_phase d.change ≡ true → k.exchange.begun ≡ true → is_heard_on s k next d (Some n) (Some m) ≡ true
    → may_leave s k n ≡ true
leaves_turn s k next d n m change begins h = sym (λ i. not (begins i) || may_leave s k n)
    ∙ (and_parts (not k.exchange.begun || may_leave s k n) (is_to (leaving s k n.target).to (phase_of d.change.after))
    (turns_so s k next d n m change h)).0

-- The first phase after a selection is MESSAGE OUT.
first_turn : (s : ScenarioValue) (k next : RunState) (d : RowReading) (n m : Connection)
    → changes_phase d.change ≡ true → k.exchange.begun ≡ false → is_heard_on s k next d (Some n) (Some m) ≡ true
    → phase_of d.change.after ≡ phases.MessageOut
first_turn s k next d n m change none h = is_same_as (phase_of d.change.after)
    (sym (λ i. is_to (if none i then phase_leaving (serving_of s k n.target) (bus_of k).atn (phase_of (bus_of k))
    else phase_entry phases.MessageOut).to (phase_of d.change.after))
    ∙ (and_parts (not k.exchange.begun || may_leave s k n) (is_to (leaving s k n.target).to (phase_of d.change.after))
    (turns_so s k next d n m change h)).1)

-- What is heard after these rows, where a connection stands and RST is false.
heard_state : (s : ScenarioValue) (rows : List Row) (n : Connection) → IsPlain s rows (run_state s rows)
    → heard s rows ≡ true → connection rows ≡ Some n → (bus rows).rst ≡ false
    → is_heard_in s (run_state s rows) n (instructions s rows) ≡ true
heard_state s [] n p h e calm = cc
heard_state s (row ∷ rows) n p h e calm =
    let k : RunState = run_state s rows in
    let next : RunState = run_state s (row ∷ rows) in
    let d : RowReading = row_reading k.story.bus_state row in
    let i : Instructions = instructions s (row ∷ rows) in
    let last = and_parts (heard s rows) (is_heard_after s k next d i) h in
    let state = and_parts (is_heard_row s k next d) (is_heard s next d.next i) last.1 in
    let here : is_heard s next (Some n) i ≡ true = sym (λ j. is_heard s next ((p.connection ∙ e) j) i) ∙ state.1 in
    let rst : (bus_of next).rst ≡ false = (λ j. (p.bus j).rst) ∙ calm in
    sym (λ j. rst j || is_heard_in s next n i) ∙ here

-- The opening is left with this row, after which RST is false.
pub left_told : (s : ScenarioValue) (rows : List Row) (row : Row) (n : Connection)
    → IsPlain s rows (run_state s rows) → heard s (row ∷ rows) ≡ true → connection rows ≡ Some n
    → (bus rows).rst ≡ false → (row_reading (run_state s rows).story.bus_state row).change.after.rst ≡ false
    → (run_state s rows).exchange.plan.cause ≡ causes.Selected
    → ((run_state s rows).exchange.begun ≡ true → phase_of (bus_of (run_state s rows)) ≡ phases.MessageOut)
    → (after : Option Connection) → (row_reading (run_state s rows).story.bus_state row).next ≡ after
    → ((m : Connection) → after ≡ Some m
    → (changes_phase (row_reading (run_state s rows).story.bus_state row).change && (run_state s rows).exchange.begun)
    ≡ true) → is_some (run_state s rows).exchange.plan.said.aborts ≡ not (is_for_process (run_state s rows).served)
left_told s rows row n p h e calm off cause first after is left =
    told_so s k n (instructions s rows) (heard_state s rows n p parts.0 e calm) leaves cause (first begins)
  where
    k : RunState
    k = run_state s rows

    d : RowReading
    d = row_reading k.story.bus_state row

    parts :
        (heard s rows ≡ true) × (is_heard_after s k (run_state s (row ∷ rows)) d (instructions s (row ∷ rows)) ≡ true)
    parts = and_parts (heard s rows) (is_heard_after s k (run_state s (row ∷ rows)) d (instructions s (row ∷ rows))) h

    on : is_heard_on s k (run_state s (row ∷ rows)) d (Some n) after ≡ true
    on = sym (λ j. is_heard_on s k (run_state s (row ∷ rows)) d ((p.connection ∙ e) j) (is j))
        ∙ sym (λ j. off j || is_heard_on s k (run_state s (row ∷ rows)) d k.story.bus_state.connection d.next)
        ∙ (and_parts (is_heard_row s k (run_state s (row ∷ rows)) d)
        (is_heard s (run_state s (row ∷ rows)) d.next (instructions s (row ∷ rows))) parts.1).0

    leaves : may_leave s k n ≡ true
    leaves = go after on left
      where
        go : (a : Option Connection) → is_heard_on s k (run_state s (row ∷ rows)) d (Some n) a ≡ true
            → ((m : Connection) → a ≡ Some m → (changes_phase d.change && k.exchange.begun) ≡ true)
            → may_leave s k n ≡ true
        go None x l = leaves_end s k (run_state s (row ∷ rows)) d n ((λ j. (p.bus j).rst) ∙ calm) x
        go (Some m) x l =
            let two = and_parts (changes_phase d.change) k.exchange.begun (l m refl) in
            leaves_turn s k (run_state s (row ∷ rows)) d n m two.0 two.1 x

    begins : k.exchange.begun ≡ true
    begins = (and_parts k.exchange.begun (not (drives_of k n.target).req)
        (and_parts (k.exchange.begun && not (drives_of k n.target).req)
        (not (follows_by (serving_of s k n.target) (pace_of s k n.target).pulsed (bus_of k) k.handshakes)) leaves).0).0

-- ---- the opening stays: MESSAGE OUT, for the selection

cause_after_byte : (w : Hearing) (p : Plan) → (plan_with_byte w p).cause ≡ p.cause
cause_after_byte w p = go (is_message_out w.change.before) w.is_last
  where
    go : (q r : Bool)
        → (if q then record (plan_anew_if r p) { said = said_with_if w.out (plan_anew_if r p).said } else p).cause
        ≡ p.cause
    go true true = refl
    go true false = refl
    go false r = refl

cause_unturned : (w : Hearing) (l : Leaving) (p : Plan) → changes_phase w.change ≡ false
    → (plan_after w l p).cause ≡ p.cause
cause_unturned w l p e = (λ i. (if e i then plan_in_phase w l p else if w.crosses then plan_with_byte w p
    else if w.fault && not w.change.before.io then struck_plan p else p).cause)
    ∙ go w.crosses (w.fault && not w.change.before.io)
  where
    go : (q r : Bool) → (if q then plan_with_byte w p else if r then struck_plan p else p).cause ≡ p.cause
    go true r = cause_after_byte w p
    go false true = refl
    go false false = refl

cause_turned : (w : Hearing) (l : Leaving) (p : Plan) → changes_phase w.change ≡ true → w.begun ≡ false
    → (plan_after w l p).cause ≡ p.cause
cause_turned w l p e f = (λ i. (if e i then plan_in_phase w l p else if w.crosses then plan_with_byte w p
    else if w.fault && not w.change.before.io then struck_plan p else p).cause)
    ∙ (λ i. (if not (is_message_out w.change.after) then record (plan_anew p) { messages = l.messages; next = l.next }
    else if f i then plan_in_message_out w p else plan_anew p).cause)
    ∙ go (is_message_out w.change.after)
  where
    go : (q : Bool)
        → (if not q then record (plan_anew p) { messages = l.messages; next = l.next } else plan_anew p).cause ≡ p.cause
    go true = refl
    go false = refl

-- No phase that had begun is left.
pub cause_stays : (w : Hearing) (l : Leaving) (p : Plan) → (changes_phase w.change && w.begun) ≡ false
    → (plan_after w l p).cause ≡ p.cause
cause_stays w l p e = go (changes_phase w.change) refl w.begun refl e
  where
    go : (q : Bool) → changes_phase w.change ≡ q → (r : Bool) → w.begun ≡ r
        → (changes_phase w.change && w.begun) ≡ false → (plan_after w l p).cause ≡ p.cause
    go false f r g h = cause_unturned w l p f
    go true f false g h = cause_turned w l p f g
    go true f true g h = (let bad : true ≡ false = sym (λ i. f i && g i) ∙ h in cc)

pub phase_stays : (s : ScenarioValue) (rows : List Row) (row : Row) (n m : Connection)
    → IsPlain s rows (run_state s rows) → heard s (row ∷ rows) ≡ true → connection rows ≡ Some n
    → (row_reading (run_state s rows).story.bus_state row).next ≡ Some m
    → (row_reading (run_state s rows).story.bus_state row).change.after.rst ≡ false
    → (changes_phase (row_reading (run_state s rows).story.bus_state row).change && (run_state s rows).exchange.begun)
    ≡ false → ((run_state s rows).exchange.begun ≡ true → phase_of (bus_of (run_state s rows)) ≡ phases.MessageOut)
    → (changes_phase (row_reading (run_state s rows).story.bus_state row).change || (run_state s rows).exchange.begun)
    ≡ true → phase_of (row_reading (run_state s rows).story.bus_state row).change.after ≡ phases.MessageOut
phase_stays s rows row n m p h e is off stays first begins =
    go (changes_phase d.change) refl k.exchange.begun refl stays begins
  where
    k : RunState
    k = run_state s rows

    d : RowReading
    d = row_reading k.story.bus_state row

    on : is_heard_on s k (run_state s (row ∷ rows)) d (Some n) (Some m) ≡ true
    on = sym (λ j. is_heard_on s k (run_state s (row ∷ rows)) d ((p.connection ∙ e) j) (is j))
        ∙ sym (λ j. off j || is_heard_on s k (run_state s (row ∷ rows)) d k.story.bus_state.connection d.next)
        ∙ (and_parts (is_heard_row s k (run_state s (row ∷ rows)) d)
        (is_heard s (run_state s (row ∷ rows)) d.next (instructions s (row ∷ rows))) (and_parts (heard s rows)
        (is_heard_after s k (run_state s (row ∷ rows)) d (instructions s (row ∷ rows))) h).1).0

    go : (q : Bool) → changes_phase d.change ≡ q → (r : Bool) → k.exchange.begun ≡ r
        → (changes_phase d.change && k.exchange.begun) ≡ false → (changes_phase d.change || k.exchange.begun) ≡ true
        → phase_of d.change.after ≡ phases.MessageOut
    go true f true g x y = (let bad : true ≡ false = sym (λ i. f i && g i) ∙ x in cc)
    go true f false g x y = first_turn s k (run_state s (row ∷ rows)) d n m f g on
    go false f true g x y =
        sym (phase_same d.change.before d.change.after (unchanged (same_phase d.change.before d.change.after) f))
        ∙ first g
      where
        unchanged : (q : Bool) → not q ≡ false → q ≡ true
        unchanged true z = refl
        unchanged false z = cc
    go false f false g x y = (let bad : false ≡ true = sym (λ i. f i || g i) ∙ y in cc)
