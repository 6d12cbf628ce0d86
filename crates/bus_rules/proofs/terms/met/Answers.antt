use Rattle.std.proofs.Common.{◌∙◌}
use Rattle.bus_rules.proofs.Running.{met_is}
use Rattle.bus_rules.proofs.terms.met.Goals as goal

pub returns : goal.returns
returns g c = λ rows h. met_is rows c.args.dev c.args.change _ _ h.course _ _ _ _ _ _ _ _ _ _ _ _ _ _ _ _ _ _
    _ _ _ _ _ _ (c.last_time.ensures ∙ h.view.last_is) (c.times.ensures ∙ h.view.times_are) c.call-call.ensures
    (c.id_since.ensures rows h.view) (c.bsy_raised.ensures rows h.course.bsy_raised)
    (c.rst_raised.ensures rows h.course.rst_raised) (c.data_since.ensures ∙ h.view.data_is) c.call-call.ensures
    (c.others_in_call.ensures rows h.view) (c.initiator_bsy.ensures rows h.view) (c.initiator_data.ensures rows h.view)
    (c.target_data.ensures rows h.view) c.receiver.ensures c.arbitration.ensures c.call-call.ensures
    c.connection.ensures c.pulses.ensures c.turned.ensures c.duty.ensures c.agreement.ensures c.is_open.ensures
    c.command.ensures c.is_half.ensures c.begun.ensures
