use Rattle.std.proofs.Common.{◌<◌, ◌^◌, arith}
use Rattle.bus_trace.specs.declared.Row.{Row}
use Rattle.bus_laws.specs.scsi_device.proofs.Finds.{all_are}
use Rattle.bus_run.proofs.running.observers_are_timely.Goals as goal

pub returns : goal.returns
returns c = λ rows o e.
    c.views_are_timely.ensures (2 ^ 63) (omega arith) rows c.args.observer.now.view o.view_is
    (all_are (λ (row : Row). row.time < 2 ^ 62) (λ (row : Row). row.time < 2 ^ 63) rows (λ row lt. omega arith) e)
