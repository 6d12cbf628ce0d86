-- What is due of an initiator is what it does next by what it knows.
use Rattle.std.proofs.Common.{ℕ, ◌≡◌, ◌==◌, ◌∙◌, Bool, true, false, List, refl, sym, Option, Some, None}
use Rattle.std.specs.Prelude.{if◌then◌else◌, not}
use Rattle.bus_trace.specs.declared.Row.{Row}
use Rattle.bus_trace.specs.declared.connection.Connection.{Connection}
use Rattle.bus_trace.specs.Trace.{bus, last_time}
use Rattle.bus_trace.specs.Terms.{connection, receiver}
use Rattle.bus_lines.specs.Handshakes.{handshakes}
use Rattle.reaction_model.specs.Sight.{sight}
use Rattle.due_model.specs.dialogue_model.specs.Hearing.{begun}
use Rattle.scenario.specs.declared.value.FaultDef.{FaultDef}
use Rattle.scenario.specs.declared.value.HostDef.{HostDef}
use Rattle.scenario.specs.Value.{ScenarioValue}
use Rattle.story_model.specs.Samples.{latency_of, host_latency, target_latency}
use Rattle.reaction_model.specs.declared.due.Due.{Due}
use Rattle.reaction_model.specs.declared.due.Myself.{Myself}
use Rattle.reaction_model.specs.Linking.{link_due, sample_time}
use Rattle.reaction_model.specs.Reset.{with_reset}
use Rattle.reaction_model.specs.Ends as hand
use Rattle.due_model.specs.dialogue_model.specs.Ends.{pace_by, answering_by}
use Rattle.due_model.specs.RunState.{RunState}
use Rattle.due_model.specs.RunSteps.{run_state}
use Rattle.due_model.specs.Sights.{identify_byte, want_of}
use Rattle.due_model.specs.Wants.{ready_time, initiator_if, ready_of, target_of, item_want_time}
use Rattle.story_model.specs.TraceHistory.{aim_of}
use Rattle.due_model.specs.Due.{self_of, due_if, stage_due, link_due_of, reset_from, AreOthersStill}
use Rattle.due_model.specs.Next.{due}
use Rattle.due_model.specs.Plain.{IsPlain, AreOfDevices}
use Rattle.due_model.specs.PlainDue.{IsThere, IsLinked, under_reset, initiator_reaction}
use Rattle.reaction_model.specs.declared.ends.Answering.{Answering}
use Rattle.reaction_model.specs.declared.ends.Pace.{Pace}
use Rattle.due_model.specs.Sights.{sending_of}
use Rattle.initiator_books.specs.scsi_device.specs.Told.{told, pace_of, first_fault, flip_by, AreFlips}
use Rattle.initiator.specs.States.{InitiatorState, IsOwnConnection, IsInitiatorOf, IsHostOf, IsNoTarget}
use Rattle.initiator.specs.Dues.{answering_of_host, myself_by, want_by, link_by, hand_by, calm_by, initiator_next}
use Rattle.due_model.specs.bus_rules.specs.Order.{is_of_device}

-- ---- the scenario

pub latency_is : (s : ScenarioValue) (h : HostDef) → IsHostOf s h → latency_of s h.dev ≡ Some h.latency
latency_is s h g = λ j. target_latency (g.no_target j) (host_latency (g.host_is j))

-- ---- what it is itself, and wants

myself_is : (s : ScenarioValue) (rows : List Row) (h : HostDef) (i : InitiatorState)
    → IsHostOf s h → IsPlain s rows (run_state s rows) → IsInitiatorOf s rows h i
    → self_of (run_state s rows) h.dev h.latency ≡ myself_by h (told rows h.dev) i
myself_is s rows h i g p r = λ j. record {
  dev = h.dev;
  latency = h.latency;
  own = p.drives h.dev g.below j;
  since = ((p.own h.dev g.below ∙ sym r.own_is) j).row;
}

want_is : (s : ScenarioValue) (rows : List Row) (h : HostDef) (i : InitiatorState) → IsHostOf s h
    → IsNoTarget s rows h.dev → IsInitiatorOf s rows h i → want_of s (run_state s rows) h.dev ≡ want_by i
want_is s rows h i g t r =
    let k : RunState = run_state s rows in
    (λ j. record {
      since = if g.is_one j then item_want_time s k.story.sent h.dev else ready_time (ready_of s k h.dev);
      callee = if g.is_one j then target_of s (aim_of k.story.aims h.dev) else initiator_if (ready_of s k h.dev);
      reselects = not (g.is_one j);
      first = identify_byte (t.no_process j);
    })
    ∙ (λ j. record { since = sym r.since_is j; callee = sym r.callee_is j; reselects = false; first = 0x80 })

-- ---- on its way to a connection

links_are : AreFlips → (s : ScenarioValue) (rows : List Row) (h : HostDef) (i : InitiatorState) (f : Option FaultDef)
    → IsHostOf s h → IsNoTarget s rows h.dev → IsPlain s rows (run_state s rows)
    → IsInitiatorOf s rows h i → f ≡ first_fault (run_state s rows).faults
    → link_due_of s (run_state s rows) (myself_by h (told rows h.dev) i) ≡ link_by h (told rows h.dev) f i
links_are flips_are s rows h i f g t p r e =
    let k : RunState = run_state s rows in
    let me : Myself = myself_by h (told rows h.dev) i in
    λ j. link_due (p.sight j) me (want_is s rows h i g t r j) (flips_are k.faults f (sample_time (p.sight j) me) e j)

-- ---- in a connection of its own

hands_are : AreFlips
    → (s : ScenarioValue) (rows : List Row) (h : HostDef) (i : InitiatorState) (f : Option FaultDef) (n : Connection)
    → IsHostOf s h → IsPlain s rows (run_state s rows) → IsInitiatorOf s rows h i
    → f ≡ first_fault (run_state s rows).faults → IsOwnConnection rows h.dev n
    → initiator_reaction s rows h.dev h.latency ≡ hand_by h (told rows h.dev) f i
hands_are flips_are s rows h i f n g p r e o =
    let k : RunState = run_state s rows in
    let last : ℕ = last_time rows in
    let me : Myself = myself_by h (told rows h.dev) i in
    let pace : Pace = pace_of (told rows h.dev) (Some h) in
    let a : Answering = answering_of_host (told rows h.dev) i in
    (λ j. hand.sample_due (is_of_device (receiver rows) h.dev) last (flips_are k.faults f last e j)
    (hand.initiator_due (begun rows) (sight rows) (handshakes rows) (myself_is s rows h i g p r j)
    (pace_by (p.begun j) (p.bus j) (p.dialogue j).heard.now.agreement (g.host_is j))
    (answering_by (sym (r.speech_is n o) j) (sending_of s k) (p.bus j)
    (p.dialogue j).heard.now.offer ((p.own h.dev g.below ∙ sym r.own_is) j).ack)))
    ∙ (λ j. hand.sample_due (is_of_device (receiver rows) h.dev) last (flip_by f last) (hand.initiator_due (begun rows)
    (sight rows) (handshakes rows) me pace (record a { byte = sym (r.sending_is n o (bus rows) i.speech) j })))

-- ---- whatever stands

pub dues_are : ((s : ScenarioValue) (rows : List Row) (dev latency : ℕ) (n : Connection)
    → IsThere s rows dev latency → IsLinked rows n → (n.initiator == dev) ≡ true
    → due s rows dev ≡ under_reset s rows dev latency (initiator_reaction s rows dev latency))
    → AreFlips → AreOthersStill
    → (s : ScenarioValue) (rows : List Row) (h : HostDef) (i : InitiatorState) (f : Option FaultDef) → IsHostOf s h
    → AreOfDevices rows → IsPlain s rows (run_state s rows) → IsNoTarget s rows h.dev → IsInitiatorOf s rows h i
    → f ≡ first_fault (run_state s rows).faults → due s rows h.dev ≡ initiator_next h (told rows h.dev) f i
dues_are law flips_are others_are s rows h i f g d p t r e = go (bus rows).rst refl (connection rows) refl
  where
    k : RunState
    k = run_state s rows

    me : Myself
    me = myself_by h (told rows h.dev) i

    mine : self_of k h.dev h.latency ≡ me
    mine = myself_is s rows h i g p r

    there : IsThere s rows h.dev h.latency
    there = record { rows_are = d; below = g.below; latency_is = latency_is s h g }

    reset_by : Option Due → Option Due
    reset_by calm = with_reset me i.own.rst i.reset calm

    -- by the stage
    staged : due s rows h.dev ≡ with_reset me i.own.rst i.reset (stage_due s k me (bus rows).rst (connection rows))
    staged = (λ j. due_if s k h.dev (latency_is s h g j)) ∙ (λ j. with_reset (mine j)
        ((p.own h.dev g.below ∙ sym r.own_is) j).rst (reset_from h.dev (p.own h.dev g.below j).released s.resets)
        (stage_due s k (mine j) (p.bus j).rst (p.connection j)))
        ∙ (λ j. with_reset me i.own.rst (sym r.reset_is j) (stage_due s k me (bus rows).rst (connection rows)))

    go : (q : Bool) → (bus rows).rst ≡ q → (x : Option Connection) → connection rows ≡ x
        → due s rows h.dev ≡ initiator_next h (told rows h.dev) f i
    go true rst x c =
        staged
        ∙ (λ j. reset_by (stage_due s k me (rst j) (connection rows)))
        ∙ (λ j. reset_by (links_are flips_are s rows h i f g t p r e j))
        ∙ (λ j. reset_by (calm_by h (told rows h.dev) f i (sym rst j) (connection rows)))
    go false rst None c =
        staged
        ∙ (λ j. reset_by (stage_due s k me (rst j) (c j)))
        ∙ (λ j. reset_by (links_are flips_are s rows h i f g t p r e j))
        ∙ (λ j. reset_by (calm_by h (told rows h.dev) f i (sym rst j) (sym c j)))
    go false rst (Some n) c = linked (n.initiator == h.dev) refl
      where
        linked : (q : Bool) → (n.initiator == h.dev) ≡ q → due s rows h.dev ≡ initiator_next h (told rows h.dev) f i
        linked true x = law s rows h.dev h.latency n there (record { calm = rst; stands = c }) x
            ∙ (λ j. with_reset (mine j) (sym r.own_is j).rst (sym r.reset_is j)
            (hands_are flips_are s rows h i f n g p r e (record { stands = c; own = x }) j))
            ∙ (λ j. reset_by (if sym x j then hand_by h (told rows h.dev) f i else None))
            ∙ (λ j. reset_by (calm_by h (told rows h.dev) f i (sym rst j) (sym c j)))
        linked false x =
            staged
            ∙ (λ j. reset_by (stage_due s k me (rst j) (c j)))
            ∙ (λ j. reset_by (others_are s k me n x (t.not_called n c) j))
            ∙ (λ j. reset_by (if sym x j then hand_by h (told rows h.dev) f i else None))
            ∙ (λ j. reset_by (calm_by h (told rows h.dev) f i (sym rst j) (sym c j)))
