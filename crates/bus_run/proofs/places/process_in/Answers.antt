use Rattle.bus_run.proofs.Absent.{absent_initiator}
use Rattle.bus_run.proofs.places.process_in.Goals as goal

pub returns-in-None : goal.returns-in-None
returns-in-None g c =
    λ s rows n t h k. absurd (absent_initiator g.D.Device.IsOf s rows n c.args.place.now c.in-None.is t k h)
