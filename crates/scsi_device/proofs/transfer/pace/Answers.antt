use Rattle.std.proofs.Common.{◌∙◌, ap}
use Rattle.bus_trace.specs.declared.agreements.Agreement.{Agreement}
use Rattle.bus_trace.specs.Agreements.{times_of}
use Rattle.scsi_device.proofs.transfer.pace.Goals as goal

pub returns-clause-exact : goal.returns-clause-exact
returns-clause-exact c = λ rows dev host o lag.
    let agreed = c.agreement-agreement.ensures rows o in
    let times = c.times_of.ensures.exact ∙ ap (λ (a : Agreement). times_of a.period) agreed in
    let lags = c.from.ensures ∙ lag in
    λ i. record {
      pulsed = c.is_pulsed.ensures rows dev host o i;
      offset = (agreed i).offset;
      times = times i;
      lag = lags i;
    }
