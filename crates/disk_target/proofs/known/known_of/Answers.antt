use Rattle.std.proofs.Common.{◌∙◌, sym}
use Rattle.std.proofs.lemmas.Bool.{eqb-true}
use Rattle.array_model.specs.Processes.{process_of}
use Rattle.array_model.specs.Seats.{is_initiator}
use Rattle.target_course.specs.Courses.{name_of}
use Rattle.disk_target.proofs.Data.{served_of}
use Rattle.disk_target.proofs.Lines.{line_of_process}
use Rattle.disk_target.proofs.known.known_of.Goals as goal

pub returns-clause-known : goal.returns-clause-known
returns-clause-known c = record {
  unit = c.unit_named-unit.ensures.small;
  device = c.requires.device;
  named = c.unit_named-unit.ensures.named;
  told = λ s rows n fits able h replies ends own calm from. record {
    state = λ p is id name.
        let e = ends p is in
        let line = line_of_process s p.id p
        (λ m d x. c.scenarios_fit_the_bus.ensures.commands s m d fits x) (served_of s rows p is) in
        c.state_of-state.ensures.state s rows c.args.sources.now.def.now p h able.few ((λ i. process_of s (id i))
        ∙ served_of s rows p is) id (e.target ∙ eqb-true n.target c.args.sources.now.def.now.dev own.own)
        (sym (c.unit_named-unit.ensures.named (name_of p) name line.unit)) (e.initiator ∙ from)
        (replies n p own calm is);
    outlook = λ p is id name block.
        let e = ends p is in
        let line = line_of_process s p.id p
        (λ m d x. c.scenarios_fit_the_bus.ensures.commands s m d fits x) (served_of s rows p is) in
        c.state_of-state.ensures.outlook s rows c.args.sources.now.def.now p h
        ((λ i. is_initiator s.hosts (sym (e.initiator ∙ from) i)) ∙ line.host)
        (e.target ∙ eqb-true n.target c.args.sources.now.def.now.dev own.own)
        (sym (c.unit_named-unit.ensures.named (name_of p) name line.unit)) (e.initiator ∙ from) (sym block)
        (served_of s rows p is);
  };
  count = c.state_of-state.ensures.count;
  taken = c.state_of-state.ensures.taken;
  serving = c.serving-serving.ensures.exact;
  fits = c.serving-serving.ensures.fits;
}
