-- What is kept is what the plain terms say.
use Rattle.std.proofs.Common.{ℕ, ◌≡◌, ◌<◌, ◌==◌, Bool, true, false, List, [], ◌∷◌, ◌++◌, ◌∙◌, refl, sym, ap, arith}
use Rattle.std.proofs.Common.{length, length-set, Option, Some, None}
use Rattle.std.specs.Prelude.{◌&&◌, slice_set, is_some, if◌then◌else◌}
use Rattle.std.proofs.lemmas.Grind.{common_steps, elements}
use Rattle.bus_rules.specs.bus_base.specs.declared.Event.{Event}
use Rattle.bus_rules.specs.bus_trace.specs.LineSet.{LineSet}
use Rattle.bus_rules.specs.bus_trace.specs.View.{union_below, union_all, driven_at}
use Rattle.bus_rules.specs.bus_trace.specs.declared.Row.{Row}
use Rattle.bus_rules.specs.bus_trace.specs.declared.agreements.Agreement.{Agreement}
use Rattle.bus_rules.specs.bus_trace.specs.Trace.{drives, bus, driven_after, times_after, line_times, free_time}
use Rattle.bus_rules.specs.bus_trace.specs.Trace.{phase_time}
use Rattle.bus_rules.specs.bus_trace.proofs.Buses.{below_same}
use Rattle.bus_rules.specs.bus_trace.specs.declared.changes.Change.{Change}
use Rattle.bus_rules.specs.bus_trace.specs.declared.connection.Connection.{Connection}
use Rattle.dialogue_model.specs.bus_phases.specs.declared.spoken.Spoken.{Spoken}
use Rattle.bus_rules.specs.bus_trace.specs.Changes.{change_of}
use Rattle.dialogue_model.specs.bus_lines.specs.Stage.{stage_by}
use Rattle.dialogue_model.specs.bus_lines.specs.Handshakes.{handshakes_after}
use Rattle.bus_rules.specs.bus_trace.specs.Terms.{is_fault, arbitration, arbitration_after, call, call_after}
use Rattle.bus_rules.specs.bus_trace.specs.Terms.{connection, connection_after, receiver_of}
use Rattle.dialogue_model.specs.bus_phases.proofs.Agreeing.{and_true, and_false}
use Rattle.dialogue_model.specs.bus_phases.specs.Dialogue.{asynchronous, closed_agreement_by, dialogue_after, agreed}
use Rattle.dialogue_model.specs.scenario.specs.Value.{ScenarioValue}
use Rattle.dialogue_model.specs.array_model.specs.Units.{Array}
use Rattle.dialogue_model.specs.array_model.specs.ArrayHistory as Play
use Rattle.dialogue_model.specs.story_model.specs.PairAgreements.{PairAgreement, agreement_in, without_target}
use Rattle.dialogue_model.specs.story_model.specs.PairAgreements.{agreements_at_end}
use Rattle.dialogue_model.specs.story_model.specs.BusState.{BusState, RowReading, change_by, row_reading}
use Rattle.dialogue_model.specs.story_model.specs.Story.{Story}
use Rattle.dialogue_model.specs.story_model.specs.HistoryEvents.{row_events_by}
use Rattle.dialogue_model.specs.story_model.specs.TraceHistory.{story, story_after, trace_history}
use Rattle.dialogue_model.specs.declared.exchange.Leaving.{Leaving}
use Rattle.dialogue_model.specs.Hearing.{begun, begun_after}
use Rattle.due_model.specs.Own.{own_next}
use Rattle.due_model.specs.RunState.{RunState}
use Rattle.due_model.specs.RunSteps.{run_state, run_state_after, array_after_events, exchange_after, leaving_of}
use Rattle.due_model.specs.Next.{due, IsPrompt}
use Rattle.due_model.proofs.Leasts.{least_some}
use Rattle.due_model.proofs.Owns.{owns_long, own_step}
use Rattle.due_model.specs.Plain.{IsPlain, AreOfDevices, crossed_if}
use Rattle.std.proofs.lemmas.Bool.Decides.{nat_tests}
use Rattle.std.proofs.Common.{subst}

-- ---- the bus of a story

pub record IsBusStateOf (rows : List Row) (w : BusState) : Type 0 where
  pub long : length w.driven ≡ 8
  pub drives : (dev : ℕ) → dev < 8 → driven_at w.driven dev ≡ drives rows dev
  pub bus : w.bus ≡ bus rows
  pub call : w.call ≡ call rows
  pub connection : w.connection ≡ connection rows

driven_more : (row : Row) (rows : List Row) (w : BusState) → IsBusStateOf rows w → row.dev < 8
    → (lines : LineSet) → lines ≡ driven_after row.kind (driven_at w.driven row.dev) → (dev : ℕ) → dev < 8
    → driven_at (slice_set w.driven row.dev lines) dev ≡ drives (row ∷ rows) dev
driven_more row rows w a lt lines e dev l =
    let d = a.drives in
    let h = a.long in
    grind (arith, common_steps, elements, d dev)

-- the union of all is the bus
union_all-below : (driven : List LineSet) → union_all driven ≡ union_below (driven_at driven) 8
unfolding union_below
union_all-below driven = refl

pub change_same : (row : Row) (rows : List Row) (w : BusState) → IsBusStateOf rows w → row.dev < 8
    → change_by w row ≡ change_of rows row
change_same row rows w a lt =
    let own : driven_at w.driven row.dev ≡ drives rows row.dev = a.drives row.dev lt in
    let next : driven_after row.kind (driven_at w.driven row.dev) ≡ driven_after row.kind (drives rows row.dev) = ap
    (driven_after row.kind) own in
    let lines : LineSet = driven_after row.kind (driven_at w.driven row.dev) in
    let after : union_all (slice_set w.driven row.dev lines) ≡ bus (row ∷ rows) =
    union_all-below (slice_set w.driven row.dev lines) ∙ below_same (driven_at (slice_set w.driven row.dev lines))
    (drives (row ∷ rows)) 8 (driven_more row rows w a lt lines refl) in
    λ i. record { before = a.bus i; after = after i; own = own i; next = next i }

bus_state_more : (s : ScenarioValue) (row : Row) (rows : List Row) (b : Story) → IsBusStateOf rows b.bus_state
    → row.dev < 8 → IsBusStateOf (row ∷ rows) (story_after s b row).bus_state
bus_state_more s row rows b a lt =
    let c : change_by b.bus_state row ≡ change_of rows row = change_same row rows b.bus_state a lt in
    record {
      long = length-set _ _ _ ∙ a.long;
      drives =
          driven_more row rows b.bus_state a lt (driven_after row.kind (driven_at b.bus_state.driven row.dev)) refl;
      bus = ap (λ (x : Change). x.after) c;
      call = λ i. call_after (a.call i) (c i) row;
      connection = λ i. connection_after (a.connection i) (a.call i) (c i) row;
    }

pub bus_state_is : (s : ScenarioValue) (rows : List Row) → AreOfDevices rows
    → IsBusStateOf rows (story s rows).bus_state
unfolding union_below
bus_state_is s [] h = record {
  long = refl;
  drives = λ dev lt. grind (arith, common_steps, elements);
  bus = refl;
  call = refl;
  connection = refl;
}
bus_state_is s (row ∷ rows) h = bus_state_more s row rows (story s rows) (bus_state_is s rows h.1) h.0

-- ---- agreements

here_first : (i ai t dev at : ℕ) (x y z : Agreement) → (dev == at) ≡ true
    → (if t == dev then z else y) ≡ (if t == dev then z else if i == ai && t == at then x else y)
here_first i ai t dev at x y z e = grind (arith, nat_tests)

here_later : (i ai t dev at : ℕ) (x y z : Agreement) → (dev == at) ≡ false
    → (if i == ai && t == at then x else if t == dev then z else y)
    ≡ (if t == dev then z else if i == ai && t == at then x else y)
here_later i ai t dev at x y z e = grind (arith, nat_tests)

either_way : (q : Bool) (x : Agreement) → x ≡ (if q then x else x)
either_way true x = refl
either_way false x = refl

without_is : (all : List PairAgreement) (dev i t : ℕ)
    → agreement_in (without_target all dev) i t ≡ (if t == dev then asynchronous else agreement_in all i t)
without_is [] dev i t = either_way (t == dev) asynchronous
without_is (a ∷ all) dev i t = go (dev == a.target) refl (without_is all dev i t)
  where
    go : (q : Bool) → (dev == a.target) ≡ q
        → agreement_in (without_target all dev) i t ≡ (if t == dev then asynchronous else agreement_in all i t)
        → agreement_in (if q then without_target all dev else a ∷ without_target all dev) i t
        ≡ (if t == dev then asynchronous
        else if i == a.initiator && t == a.target then a.agreement else agreement_in all i t)
    go true e ih = ih ∙ here_first i a.initiator t dev a.target a.agreement (agreement_in all i t) asynchronous e
    go false e ih =
        ap (λ (z : Agreement). if i == a.initiator && t == a.target then a.agreement else z) ih
        ∙ here_later i a.initiator t dev a.target a.agreement (agreement_in all i t) asynchronous e

rest_is : (all : List PairAgreement) (dev i t : ℕ) (was : Agreement) (now : Bool) → agreement_in all i t ≡ was
    → agreement_in (if now then without_target all dev else all) i t ≡ (if t == dev && now then asynchronous else was)
rest_is all dev i t was true e = without_is all dev i t ∙ ap (λ (z : Agreement). if t == dev then asynchronous else z) e
    ∙ and_true (t == dev) asynchronous was
rest_is all dev i t was false e = e ∙ and_false (t == dev) asynchronous was

closes_is :
    (all : List PairAgreement) (n : Option Connection) (stands : Bool) (said : Spoken) (i t : ℕ) (was : Agreement)
    → agreement_in all i t ≡ was
    → agreement_in (agreements_at_end all n stands said) i t ≡ closed_agreement_by n stands said i t was
closes_is all None stands said i t was e = e
closes_is all (Some n) true said i t was e = e
closes_is all (Some n) false said i t was e = ap
    (λ (z : Agreement). if i == n.initiator && t == n.target then said.agreement else z)
    (rest_is all n.target i t was said.device_reset e)

reset_is : (all : List PairAgreement) (rst : Bool) (n : Option Connection) (stands : Bool)
    (said : Spoken) (i t : ℕ) (was : Agreement) → agreement_in all i t ≡ was
    → agreement_in (if rst then [] else agreements_at_end all n stands said) i t
    ≡ (if rst then asynchronous else closed_agreement_by n stands said i t was)
reset_is all true n stands said i t was e = refl
reset_is all false n stands said i t was e = closes_is all n stands said i t was e

-- ---- the plain disk array

played_on : (s : ScenarioValue) (history shown : List Event)
    → array_after_events s (Play.array_after s history) shown ≡ Play.array_after s (shown ++ history)
played_on s history [] = refl
played_on s history (event ∷ shown) = ap (Play.array_step s event) (played_on s history shown)

if_crossed : (q : Bool) (c : Change) → (if q then Some c else None) ≡ crossed_if q c
if_crossed true c = refl
if_crossed false c = refl

-- ---- a phase has begun

unbegun : (rows : List Row) → connection rows ≡ None → begun rows ≡ false
unbegun [] e = refl
unbegun (row ∷ rows) e = λ i. begun_after (begun rows) (connection rows) (e i) (change_of rows row)

begun_on :
    (s : ScenarioValue) (k : RunState) (row : Row) (d : RowReading) (before after : Option Connection) (l : Leaving)
    → (before ≡ None → k.exchange.begun ≡ false)
    → (exchange_after s k row d before after l).begun ≡ begun_after k.exchange.begun before after d.change
begun_on s k row d None None l h = h refl
begun_on s k row d None (Some n) l h = refl
begun_on s k row d (Some m) None l h = refl
begun_on s k row d (Some m) (Some n) l h = refl

-- ---- a row more

plain_more : (s : ScenarioValue) (row : Row) (rows : List Row) (k : RunState) → IsPlain s rows k → length k.owns ≡ 8
    → AreOfDevices rows → row.dev < 8 → IsPlain s (row ∷ rows) (run_state_after s k row)
plain_more s row rows k h long d lt =
    let same : k.story ≡ story s rows = h.story in
    let w : IsBusStateOf rows k.story.bus_state = subst
    (λ (b : Story). IsBusStateOf rows b.bus_state) (sym same) (bus_state_is s rows d) in
    let w2 : IsBusStateOf (row ∷ rows) (story_after s k.story row).bus_state = bus_state_more s row rows k.story w lt in
    let c : change_by k.story.bus_state row ≡ change_of rows row = change_same row rows k.story.bus_state w lt in
    let bus2 : (change_by k.story.bus_state row).after ≡ bus (row ∷ rows) = ap (λ (x : Change). x.after) c in
    let bus1 : k.story.bus_state.bus ≡ bus rows = w.bus in
    let next : connection_after k.story.bus_state.connection k.story.bus_state.call
    (change_by k.story.bus_state row) row ≡ connection (row ∷ rows) = w2.connection in
    let ag : (i t : ℕ) → agreement_in (run_state_after s k row).story.bus_state.agreed i t ≡ agreed (row ∷ rows) i t =
    λ i t. reset_is k.story.bus_state.agreed (change_by k.story.bus_state row).after.rst k.story.bus_state.connection
    (change_by k.story.bus_state row).after.bsy k.story.bus_state.dialogue.heard.now i t
    (agreed rows i t) (h.agreed i t) ∙ (λ j. if (bus2 j).rst then asynchronous
    else closed_agreement_by (w.connection j) (bus2 j).bsy (h.dialogue j).heard.now i t (agreed rows i t)) in
    let ages : (run_state_after s k row).ages ≡ line_times (row ∷ rows) = λ i. times_after
    (h.ages i) (bus1 i) (bus2 i) row.time in
    let arb : (run_state_after s k row).arbitration ≡ arbitration (row ∷ rows) = λ i. arbitration_after
    (h.arbitration i) (h.free i) (c i) row in
    record {
      story = ap (λ (b : Story). story_after s b row) same;
      array = ap (λ (a : Option Array). array_after_events s a
          (row_events_by s k.story (row_reading k.story.bus_state row) row)) h.array
          ∙ played_on s (trace_history s rows) (row_events_by s k.story (row_reading k.story.bus_state row) row)
          ∙ ap (λ (b : Story). Play.array_after s
          (row_events_by s b (row_reading b.bus_state row) row ++ trace_history s rows)) same;
      last = refl;
      drives = w2.drives;
      bus = w2.bus;
      ages = ages;
      free = λ i. free_time (ages i);
      phase = λ i. phase_time (ages i);
      arbitration = arb;
      call = w2.call;
      connection = w2.connection;
      own = λ e below.
          own_step k.owns row.time row.dev row.kind (change_by k.story.bus_state row) e long lt
          ∙ (λ i. if row.dev == e then own_next row.kind (h.own e below i) (c i) row.time else h.own e below i);
      crossed = if_crossed (is_some (receiver_of k.story.bus_state.connection (change_by k.story.bus_state row)))
          (change_by k.story.bus_state row) ∙ (λ i. crossed_if (is_some (receiver_of (w.connection i) (c i))) (c i));
      handshakes = λ i. handshakes_after (is_fault row.kind) (next i) (c i) row.time (h.handshakes i);
      sight = λ i. record {
        bus = w2.bus i;
        ages = ages i;
        stage = stage_by (w2.bus i).rst (ages i).rst (w2.connection i) (w2.call i) (arb i) (free_time (ages i));
      };
      agreed = ag;
      dialogue = λ i. dialogue_after (h.dialogue i) (w.connection i) (next i) (λ a b. h.agreed a b i) (c i);
      stage = λ i. stage_by (w2.bus i).rst (ages i).rst (w2.connection i) (w2.call i) (arb i) (free_time (ages i));
      begun = begun_on s k row (row_reading k.story.bus_state row) k.story.bus_state.connection
          (row_reading k.story.bus_state row).next (leaving_of s k k.story.bus_state.connection)
          (λ e. h.begun ∙ unbegun rows (sym w.connection ∙ e))
          ∙ (λ i. begun_after (h.begun i) (w.connection i) (next i) (c i));
    }

pub run_state_plain : (s : ScenarioValue) (rows : List Row) → AreOfDevices rows → IsPlain s rows (run_state s rows)
unfolding union_below
run_state_plain s [] h = record {
  story = refl;
  array = refl;
  last = refl;
  drives = λ dev lt. (bus_state_is s [] h).drives dev lt;
  bus = refl;
  ages = refl;
  free = refl;
  phase = refl;
  arbitration = refl;
  call = refl;
  connection = refl;
  own = λ dev lt. grind (arith, common_steps, elements);
  crossed = refl;
  handshakes = refl;
  sight = refl;
  agreed = λ i t. refl;
  dialogue = refl;
  stage = refl;
  begun = refl;
}
run_state_plain s (row ∷ rows) h =
    plain_more s row rows (run_state s rows) (run_state_plain s rows h.1) (owns_long s rows) h.1 h.0

-- The rows of a prompt trace are of the eight devices.
pub of_devices : (s : ScenarioValue) (rows : List Row) → IsPrompt s rows → AreOfDevices rows
of_devices s [] h = tt
of_devices s (row ∷ rows) h = ((least_some (due s rows) 8 row h.1).inside, of_devices s rows h.0)

pub prompt_plain : (s : ScenarioValue) (rows : List Row) → IsPrompt s rows → IsPlain s rows (run_state s rows)
prompt_plain s rows h = run_state_plain s rows (of_devices s rows h)
