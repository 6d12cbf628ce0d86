use Rattle.std.proofs.Common.{◌≡◌, ◌∙◌, List, Option, map, sym, subst, false}
use Rattle.scenario.specs.declared.value.TapeDef.{TapeDef}
use Rattle.scenario.specs.declared.value.UnitDef.{UnitDef}
use Rattle.scenario.specs.Lookups.{tape_unit}
use Rattle.array_model.specs.ArrayHistory.{array_after, disks_of, tapes_of}
use Rattle.due_model.specs.story_model.specs.TraceHistory.{trace_history}
use Rattle.due_model.specs.RunState.{array_of}
use Rattle.due_model.specs.RunSteps.{run_state}
use Rattle.delivery_laws.specs.target_units.specs.Units.{UnitsState}
use Rattle.run_record.specs.Value.{held_by, reeled_by}
use Rattle.bus_engine.specs.Disks.{AreLinesApart, AreParted}
use Rattle.bus_engine.proofs.Items.{ok_map}
use Rattle.bus_engine.proofs.Leftovers.{array_is, all_held, left_apart}
use Rattle.bus_engine.proofs.running.media_in.Goals as goal

pub returns-clause-held : goal.returns-clause-held
returns-clause-held c = λ s rows first f e t seats p allows known h.
    let a = array_of s (run_state s rows) in
    let history = trace_history s rows in
    let is = array_is s rows p allows in
    let sound = c.arrays_are_sound.ensures.always s history a seats is in
    let units = c.in_ok-of_target.of_target.items in
    let held = all_held s rows units (λ x times dev n units are lt. c.units_hold_their_blocks.ensures s x times dev n
    units are lt) f p allows sound known (c.in_ok-of_target.ensures.units s rows first h) in
    let left = left_apart s history a units f sound held is in
    let there = map tape_unit s.tapes in
    let at_lines = subst (λ (l : List UnitDef). AreParted false units l left.disks there left.tapes)
    (sym e) left.first in
    let at_slice = subst (λ (l : List (Option UnitsState)). AreParted false l c.args.units.now left.disks there
    left.tapes) (sym c.as_mut_slice.ensures.value) at_lines in
    let at_tapes = subst (λ (l : List TapeDef). AreParted false c.as_mut_slice.result.now c.args.units.now left.disks
    (map tape_unit l) left.tapes) (sym t) at_slice in
    let apart = subst (λ (l : List TapeDef). AreLinesApart (map tape_unit l)) (sym t) left.apart in
    ok_map c.media_by_line.result (λ media. (map held_by media.disks.items ≡ left.disks)
    × (map reeled_by media.tapes.items ≡ left.tapes)) (λ media. (map held_by media.disks.items
    ≡ disks_of (array_after s history)) × (map reeled_by media.tapes.items ≡ tapes_of (array_after s history)))
    (λ media are. (
      are.0 ∙ left.disks_are ∙ (λ i. disks_of (sym is i)),
      are.1 ∙ left.tapes_are
          ∙ (λ i. tapes_of (sym is i)),
    )) (c.media_by_line.ensures.held left.disks left.tapes at_tapes left.reeled apart)
