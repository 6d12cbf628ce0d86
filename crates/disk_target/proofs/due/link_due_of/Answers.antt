use Rattle.std.proofs.Common.{◌∙◌}
use Rattle.reaction_model.specs.Linking.{link_due, sample_time}
use Rattle.reaction_model.specs.Sight.{sight}
use Rattle.target_course.specs.scsi_device.specs.Told.{flip_by}
use Rattle.target_course.specs.Dues.{want_of_ready}
use Rattle.disk_target.proofs.due.link_due_of.Goals as goal

pub returns : goal.returns
returns c = λ rows d i o mine ready.
    let v = c.view-view.ensures.trace rows o in
    let want = c.want_of_ready.ensures ∙ (λ j. want_of_ready (ready j)) in
    let sampled = c.sample_time-sampled_at.ensures rows v ∙ (λ j. sample_time (sight rows) (mine j)) in
    let flips = c.flip.ensures ∙ (λ j. flip_by c.args.fault (sampled j)) in
    c.link_due.ensures rows v ∙ (λ j. link_due (sight rows) (mine j) (want j) (flips j))
