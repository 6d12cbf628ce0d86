use Rattle.std.proofs.Common.{ℕ, ◌≡◌, ◌==◌, ◌∙◌, Bool, sym, subst, None}
use Rattle.std.specs.Prelude.{◌&&◌}
use Rattle.bus_trace.specs.Trace.{bus, drives}
use Rattle.bus_lines.specs.Handshakes.{handshakes}
use Rattle.due_model.specs.dialogue_model.specs.Ends.{follows_by}
use Rattle.due_model.specs.dialogue_model.specs.Hearing.{begun}
use Rattle.due_model.specs.dialogue_model.specs.NextPhase as next_phase
use Rattle.due_model.specs.RunSteps.{run_state}
use Rattle.due_model.specs.Sights.{serving_of}
use Rattle.reaction_model.specs.declared.ends.Offering.{Offering}
use Rattle.target_course.specs.scsi_device.specs.Told.{told, pace_of}
use Rattle.target_course.specs.Alike.{is_driven}
use Rattle.target_course.specs.Servings.{serving_with}
use Rattle.target_course.specs.States.{AreAlikeIn, offering_in}
use Rattle.target_course.proofs.Alike.{alike_on}
use Rattle.disk_target.specs.Needs.{goes_on_in}
use Rattle.disk_target.proofs.Needs.{goes_on_alike, leaves_alike}
use Rattle.disk_target.proofs.target.Target.offering_by.Goals as goal

pub returns-then-goes_on_in-clause-trace : goal.returns-then-goes_on_in-clause-trace
returns-then-goes_on_in-clause-trace c = λ s rows n fits o d e able h course own calm from paced.
    let dev : ℕ = c.args.self.now.def.dev in
    let v = c.view-view.ensures.trace rows o in
    let lines = c.bus-bus.ensures.trace rows v in
    let shakes = c.handshakes-handshakes.ensures.trace rows v in
    let asks = c.req-asks.ensures ∙ (λ i. (c.drives.ensures.trace rows v i).req)
    ∙ (λ i. (drives rows (c.self.view_is i).def.dev).req) in
    let bare : (c.requests-bare.result == 0) ≡ ((handshakes rows).requests == 0) =
    λ i. (c.requests-bare.ensures ∙ (λ j. (shakes j).requests)) i == 0 in
    let b = c.next_byte.ensures s rows n fits o d e able h course own calm from in
    let w : next_phase.Serving = serving_with c.args.known.now.serving b.given in
    let pulsed : Bool = (pace_of (told rows 0) None).pulsed in
    let follows = c.follows_by-follows.ensures b.given ∙ (λ i. follows_by w (paced i) (lines i) (shakes i)) in
    let driven = c.is_driven-driven.ensures ∙ (λ i. (c.io.ensures ∙ (λ j. (lines j).io)) i
    && is_driven (bare i) c.follows_by-follows.result (asks i) (paced i)) in
    let goes = sym (c.goes_on_in.ensures ∙ (λ i. goes_on_in (asks i) c.follows_by-follows.result (bare i)))
    ∙ c.if-goes_on_in.true in
    alike_on (begun rows) pulsed (drives rows dev).req (bus rows).io (handshakes rows).requests _
    (offering_in rows w) (offering_in rows (serving_of s (run_state s rows) dev))
    (subst (λ (g : Offering). AreAlikeIn rows dev g (offering_in rows w)) (sym c.going_on.ensures)
    (goes_on_alike w (begun rows) pulsed (drives rows dev).req c.follows_by-follows.result (bus rows)
    (handshakes rows) c.next_byte.result follows goes (λ z. b.byte_is (driven ∙ z)))) b.alike

pub returns-else-goes_on_in-clause-trace : goal.returns-else-goes_on_in-clause-trace
returns-else-goes_on_in-clause-trace c = λ s rows n fits o d e able h course own calm from paced.
    let dev : ℕ = c.args.self.now.def.dev in
    let v = c.view-view.ensures.trace rows o in
    let lines = c.bus-bus.ensures.trace rows v in
    let shakes = c.handshakes-handshakes.ensures.trace rows v in
    let asks = c.req-asks.ensures ∙ (λ i. (c.drives.ensures.trace rows v i).req)
    ∙ (λ i. (drives rows (c.self.view_is i).def.dev).req) in
    let bare : (c.requests-bare.result == 0) ≡ ((handshakes rows).requests == 0) =
    λ i. (c.requests-bare.ensures ∙ (λ j. (shakes j).requests)) i == 0 in
    let l = c.leaving.ensures.trace s rows n fits o d e able h course own calm from in
    let w : next_phase.Serving = serving_with c.args.known.now.serving l.given in
    let pulsed : Bool = (pace_of (told rows 0) None).pulsed in
    let follows = c.follows_by-follows.ensures l.given ∙ (λ i. follows_by w (paced i) (lines i) (shakes i)) in
    let goes = sym (c.goes_on_in.ensures ∙ (λ i. goes_on_in (asks i) (follows i) (bare i))) ∙ c.if-goes_on_in.false in
    alike_on (begun rows) pulsed (drives rows dev).req (bus rows).io (handshakes rows).requests _
    (offering_in rows w) (offering_in rows (serving_of s (run_state s rows) dev))
    (subst (λ (g : Offering). AreAlikeIn rows dev g (offering_in rows w)) (sym l.leaves)
    (leaves_alike w (begun rows) pulsed (drives rows dev).req (bus rows) (handshakes rows) goes)) l.alike
