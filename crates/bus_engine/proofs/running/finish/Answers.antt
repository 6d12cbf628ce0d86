use Rattle.std.proofs.Common.{◌+◌, ◌∙◌, List, None, length, sym, ap, subst, arith}
use Rattle.std.specs.Prelude.{slice_index_or}
use Rattle.std.specs.List.{AllByRecursion}
use Rattle.scenario.specs.declared.value.TapeDef.{TapeDef}
use Rattle.scenario.specs.declared.value.UnitDef.{UnitDef}
use Rattle.scenario.specs.Value.{ScenarioValue}
use Rattle.bus_engine.specs.Disks.{IsWithin, IsTapeWithin}
use Rattle.bus_engine.proofs.Leftovers.{all_within, tapes_within}
use Rattle.bus_engine.proofs.EndedPlaces.{later}
use Rattle.bus_engine.proofs.Targeted.{lawful_have_targets}
use Rattle.bus_engine.proofs.running.finish.Goals as goal

pub media_in-requires-clause-lines : goal.media_in-requires-clause-lines
media_in-requires-clause-lines c =
    let s = c.args.scenario.now in
    let lines = c.as_slice-2.ensures.value ∙ ap (λ (v : ScenarioValue). v.units) c.scenario.view_is in
    subst (λ (l : List UnitDef). AllByRecursion IsWithin l) (sym lines)
    (all_within s (c.scenarios_fit_the_bus.ensures.lines s c.requires.lawful))

pub media_in-requires-clause-tape_lines : goal.media_in-requires-clause-tape_lines
media_in-requires-clause-tape_lines c =
    let s = c.args.scenario.now in
    let lines = c.as_slice-3.ensures.value ∙ ap (λ (v : ScenarioValue). v.tapes) c.scenario.view_is in
    subst (λ (l : List TapeDef). AllByRecursion IsTapeWithin l) (sym lines)
    (tapes_within s (c.scenarios_fit_the_bus.ensures.lines s c.requires.lawful))

pub returns-clause-replies : goal.returns-clause-replies
returns-clause-replies c = λ rows p a.
    let s = c.args.scenario.now in
    let commands = c.as_slice.ensures.value ∙ ap (λ (v : ScenarioValue). v.commands) c.scenario.view_is in
    c.in_ok-replies.ensures.told s rows (c.scenarios_fit_the_bus.ensures.lines s c.requires.lawful) commands
    (λ dev lt. later s rows dev 0 1 (slice_index_or c.args.places.now dev None) (omega arith)
    (c.runs_end.ensures s rows dev (slice_index_or c.args.places.now dev None) (p dev lt))) a

pub returns-clause-disks : goal.returns-clause-disks
returns-clause-disks c = λ rows plain allows p.
    let s = c.args.scenario.now in
    let lines = c.as_slice-2.ensures.value ∙ ap (λ (v : ScenarioValue). v.units) c.scenario.view_is in
    let tapes = c.as_slice-3.ensures.value ∙ ap (λ (v : ScenarioValue). v.tapes) c.scenario.view_is in
    let over = c.in_ok-replies.ensures.over s rows
    (λ dev lt. later s rows dev 0 1 (slice_index_or c.args.places.now dev None) (omega arith)
    (c.runs_end.ensures s rows dev (slice_index_or c.args.places.now dev None) (p dev lt))) in
    (c.in_ok-media.ensures.held s rows (length c.as_slice.result.now + 1)
    (c.scenarios_fit_the_bus.ensures.lines s c.requires.lawful) lines tapes
    (c.scenarios_fit_the_bus.ensures.seats s (c.scenarios_fit_the_bus.ensures.lines s c.requires.lawful)) plain allows
    (lawful_have_targets s c.requires.lawful) over).0

pub returns-clause-tapes : goal.returns-clause-tapes
returns-clause-tapes c = λ rows plain allows p.
    let s = c.args.scenario.now in
    let lines = c.as_slice-2.ensures.value ∙ ap (λ (v : ScenarioValue). v.units) c.scenario.view_is in
    let tapes = c.as_slice-3.ensures.value ∙ ap (λ (v : ScenarioValue). v.tapes) c.scenario.view_is in
    let over = c.in_ok-replies.ensures.over s rows
    (λ dev lt. later s rows dev 0 1 (slice_index_or c.args.places.now dev None) (omega arith)
    (c.runs_end.ensures s rows dev (slice_index_or c.args.places.now dev None) (p dev lt))) in
    (c.in_ok-media.ensures.held s rows (length c.as_slice.result.now + 1)
    (c.scenarios_fit_the_bus.ensures.lines s c.requires.lawful) lines tapes
    (c.scenarios_fit_the_bus.ensures.seats s (c.scenarios_fit_the_bus.ensures.lines s c.requires.lawful)) plain allows
    (lawful_have_targets s c.requires.lawful) over).1
