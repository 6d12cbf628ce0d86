-- What is due of a target is what it does next by what it knows.
use Rattle.std.proofs.Common.{ℕ, ◌≡◌, ◌==◌, ◌∙◌, Bool, true, false, List, refl, sym, Option, Some, None}
use Rattle.std.specs.Prelude.{if◌then◌else◌, not}
use Rattle.bus_trace.specs.declared.Row.{Row}
use Rattle.bus_trace.specs.declared.connection.Connection.{Connection}
use Rattle.bus_trace.specs.Trace.{bus, last_time}
use Rattle.bus_trace.specs.Terms.{connection, receiver}
use Rattle.bus_lines.specs.Handshakes.{handshakes}
use Rattle.reaction_model.specs.Sight.{sight}
use Rattle.due_model.specs.dialogue_model.specs.Hearing.{begun}
use Rattle.due_model.specs.dialogue_model.specs.Wants as wants
use Rattle.scenario.specs.declared.value.FaultDef.{FaultDef}
use Rattle.scenario.specs.declared.value.TargetDef.{TargetDef}
use Rattle.scenario.specs.Value.{ScenarioValue}
use Rattle.due_model.specs.story_model.specs.Samples.{latency_of, host_latency, target_latency}
use Rattle.due_model.specs.story_model.specs.TraceHistory.{aim_of}
use Rattle.reaction_model.specs.declared.due.Due.{Due}
use Rattle.reaction_model.specs.declared.due.Myself.{Myself}
use Rattle.reaction_model.specs.declared.due.Want.{Want}
use Rattle.reaction_model.specs.Linking.{link_due, sample_time}
use Rattle.reaction_model.specs.Reset.{with_reset}
use Rattle.reaction_model.specs.Ends as hand
use Rattle.due_model.specs.dialogue_model.specs.Ends.{pace_by, offering_by}
use Rattle.due_model.specs.Defs.{host_of}
use Rattle.due_model.specs.RunState.{RunState}
use Rattle.due_model.specs.RunSteps.{run_state}
use Rattle.due_model.specs.Sights.{identify_byte, want_of, serving_of}
use Rattle.due_model.specs.Wants.{ready_time, initiator_if, ready_of, target_of, item_want_time}
use Rattle.due_model.specs.Due.{self_of, due_if, stage_due, link_due_of, reset_from, AreOthersStill}
use Rattle.due_model.specs.Next.{due}
use Rattle.due_model.specs.Plain.{IsPlain, AreOfDevices}
use Rattle.due_model.specs.PlainDue.{IsThere, IsLinked, under_reset, target_reaction}
use Rattle.reaction_model.specs.declared.ends.Pace.{Pace}
use Rattle.target_units.specs.scsi_device.specs.Told.{told, pace_of, first_fault, flip_by, AreFlips}
use Rattle.target_course.specs.States.{offering_in, TargetState, IsOwnConnection, IsTargetOf, IsTargetLine}
use Rattle.target_course.specs.States.{IsNoInitiator}
use Rattle.target_units.specs.Readies.{ready_unit}
use Rattle.target_course.proofs.Alike.{dues_alike}
use Rattle.target_course.specs.Dues.{myself_by, want_of_ready, link_by, hand_by, calm_by, target_next}
use Rattle.due_model.specs.bus_rules.specs.Order.{is_of_device}

-- ---- the scenario

latency_is : (s : ScenarioValue) (d : TargetDef) → IsTargetLine s d → latency_of s d.dev ≡ Some d.latency
latency_is s d g = λ j. target_latency (g.target_is j) (host_latency (host_of s d.dev))

-- ---- what it is itself, and wants

myself_is : (s : ScenarioValue) (rows : List Row) (d : TargetDef) (i : TargetState)
    → IsTargetLine s d → IsPlain s rows (run_state s rows) → IsTargetOf s rows d i
    → self_of (run_state s rows) d.dev d.latency ≡ myself_by d (told rows d.dev) i
myself_is s rows d i g p r = λ j. record {
  dev = d.dev;
  latency = d.latency;
  own = p.drives d.dev g.below j;
  since = ((p.own d.dev g.below ∙ sym r.own_is) j).row;
}

-- A target wants what its first ready unit asks for.
abbrev want_by : Option wants.Ready → Want
want_by r = record { since = ready_time r; callee = initiator_if r; reselects = true; first = identify_byte r }

ready_wants : (r : Option wants.Ready) → want_by r ≡ want_of_ready (ready_unit r)
ready_wants None = refl
ready_wants (Some r) = refl

want_is : (s : ScenarioValue) (rows : List Row) (d : TargetDef) (i : TargetState) → IsTargetLine s d
    → IsTargetOf s rows d i → want_of s (run_state s rows) d.dev ≡ want_of_ready i.ready
want_is s rows d i g r =
    let k : RunState = run_state s rows in
    (λ j. record {
      since = if g.is_none j then item_want_time s k.story.sent d.dev else ready_time (ready_of s k d.dev);
      callee = if g.is_none j then target_of s (aim_of k.story.aims d.dev) else initiator_if (ready_of s k d.dev);
      reselects = not (g.is_none j);
      first = identify_byte (ready_of s k d.dev);
    })
    ∙ ready_wants (ready_of s k d.dev)
    ∙ (λ j. want_of_ready (sym r.ready_is j))

-- ---- on its way to a connection

links_are : AreFlips → (s : ScenarioValue) (rows : List Row) (d : TargetDef) (i : TargetState) (f : Option FaultDef)
    → IsTargetLine s d → IsPlain s rows (run_state s rows)
    → IsTargetOf s rows d i → f ≡ first_fault (run_state s rows).faults
    → link_due_of s (run_state s rows) (myself_by d (told rows d.dev) i) ≡ link_by d (told rows d.dev) f i
links_are flips_are s rows d i f g p r e =
    let k : RunState = run_state s rows in
    let me : Myself = myself_by d (told rows d.dev) i in
    λ j. link_due (p.sight j) me (want_is s rows d i g r j) (flips_are k.faults f (sample_time (p.sight j) me) e j)

-- ---- in a connection of its own

hands_are : AreFlips
    → (s : ScenarioValue) (rows : List Row) (d : TargetDef) (i : TargetState) (f : Option FaultDef) (n : Connection)
    → IsTargetLine s d → IsPlain s rows (run_state s rows) → IsTargetOf s rows d i
    → f ≡ first_fault (run_state s rows).faults → IsOwnConnection rows d.dev n → (bus rows).rst ≡ false
    → target_reaction s rows d.dev d.latency ≡ hand_by d (told rows d.dev) f i
hands_are flips_are s rows d i f n g p r e o calm =
    let k : RunState = run_state s rows in
    let last : ℕ = last_time rows in
    let me : Myself = myself_by d (told rows d.dev) i in
    let pace : Pace = pace_of (told rows d.dev) None in
    (λ j. hand.sample_due (is_of_device (receiver rows) d.dev) last (flips_are k.faults f last e j)
    (hand.target_due (begun rows) (sight rows) (handshakes rows) (myself_is s rows d i g p r j)
    (pace_by (p.begun j) (p.bus j) (p.dialogue j).heard.now.agreement (g.no_host j)) (offering_by (serving_of s k d.dev)
    (p.begun j) (pace_by (p.begun j) (p.bus j) (p.dialogue j).heard.now.agreement (g.no_host j)).pulsed
    (p.bus j) (p.handshakes j))))
    ∙ (λ j. hand.sample_due (is_of_device (receiver rows) d.dev) last (flip_by f last)
    (sym (dues_alike (begun rows) (sight rows) (handshakes rows) me pace (offering_in rows i.serving)
    (offering_in rows (serving_of s k d.dev)) (r.serving_is n o calm)) j))

-- ---- whatever stands

pub dues_are : ((s : ScenarioValue) (rows : List Row) (dev latency : ℕ) (n : Connection)
    → IsThere s rows dev latency → IsLinked rows n → (n.initiator == dev) ≡ false → (n.target == dev) ≡ true
    → due s rows dev ≡ under_reset s rows dev latency (target_reaction s rows dev latency)) → AreFlips → AreOthersStill
    → (s : ScenarioValue) (rows : List Row) (d : TargetDef) (i : TargetState) (f : Option FaultDef) → IsTargetLine s d
    → AreOfDevices rows → IsPlain s rows (run_state s rows) → IsNoInitiator rows d.dev → IsTargetOf s rows d i
    → f ≡ first_fault (run_state s rows).faults → due s rows d.dev ≡ target_next d (told rows d.dev) f i
dues_are law flips_are others_are s rows d i f g q p t r e = go (bus rows).rst refl (connection rows) refl
  where
    k : RunState
    k = run_state s rows

    me : Myself
    me = myself_by d (told rows d.dev) i

    mine : self_of k d.dev d.latency ≡ me
    mine = myself_is s rows d i g p r

    there : IsThere s rows d.dev d.latency
    there = record { rows_are = q; below = g.below; latency_is = latency_is s d g }

    reset_by : Option Due → Option Due
    reset_by calm = with_reset me i.own.rst i.reset calm

    -- by the stage
    staged : due s rows d.dev ≡ with_reset me i.own.rst i.reset (stage_due s k me (bus rows).rst (connection rows))
    staged = (λ j. due_if s k d.dev (latency_is s d g j)) ∙ (λ j. with_reset (mine j)
        ((p.own d.dev g.below ∙ sym r.own_is) j).rst (reset_from d.dev (p.own d.dev g.below j).released s.resets)
        (stage_due s k (mine j) (p.bus j).rst (p.connection j)))
        ∙ (λ j. with_reset me i.own.rst (sym r.reset_is j) (stage_due s k me (bus rows).rst (connection rows)))

    go : (x : Bool) → (bus rows).rst ≡ x → (y : Option Connection) → connection rows ≡ y
        → due s rows d.dev ≡ target_next d (told rows d.dev) f i
    go true rst y c =
        staged
        ∙ (λ j. reset_by (stage_due s k me (rst j) (connection rows)))
        ∙ (λ j. reset_by (links_are flips_are s rows d i f g p r e j))
        ∙ (λ j. reset_by (calm_by d (told rows d.dev) f i (sym rst j) (connection rows)))
    go false rst None c =
        staged
        ∙ (λ j. reset_by (stage_due s k me (rst j) (c j)))
        ∙ (λ j. reset_by (links_are flips_are s rows d i f g p r e j))
        ∙ (λ j. reset_by (calm_by d (told rows d.dev) f i (sym rst j) (sym c j)))
    go false rst (Some n) c = linked (n.target == d.dev) refl
      where
        linked : (z : Bool) → (n.target == d.dev) ≡ z → due s rows d.dev ≡ target_next d (told rows d.dev) f i
        linked true z = law s rows d.dev d.latency n there (record { calm = rst; stands = c }) (t.not_calling n c) z
            ∙ (λ j. with_reset (mine j) (sym r.own_is j).rst (sym r.reset_is j)
            (hands_are flips_are s rows d i f n g p r e (record { stands = c; own = z }) rst j))
            ∙ (λ j. reset_by (if sym z j then hand_by d (told rows d.dev) f i else None))
            ∙ (λ j. reset_by (calm_by d (told rows d.dev) f i (sym rst j) (sym c j)))
        linked false z =
            staged
            ∙ (λ j. reset_by (stage_due s k me (rst j) (c j)))
            ∙ (λ j. reset_by (others_are s k me n (t.not_calling n c) z j))
            ∙ (λ j. reset_by (if sym z j then hand_by d (told rows d.dev) f i else None))
            ∙ (λ j. reset_by (calm_by d (told rows d.dev) f i (sym rst j) (sym c j)))
