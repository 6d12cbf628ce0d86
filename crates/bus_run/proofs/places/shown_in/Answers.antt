use Rattle.std.proofs.Common.{refl}
use Rattle.bus_run.proofs.OnePlace.{some_in}
use Rattle.bus_run.proofs.Absent.{absent_initiator, absent_target}
use Rattle.bus_run.proofs.places.shown_in.Goals as goal

pub returns-in-None-clause-target : goal.returns-in-None-clause-target
returns-in-None-clause-target g c = λ s rows row n a h b r k l. absurd (absent_target g.D.Device.IsOf s rows n
    c.args.place.now c.in-None.is (c.rows_tie_devices.ensures.before s rows row a.tied) k h)

pub returns-in-None-clause-initiator : goal.returns-in-None-clause-initiator
returns-in-None-clause-initiator g c = λ s rows row n a h b r k l. absurd (absent_initiator g.D.Device.IsOf s rows n
    c.args.place.now c.in-None.is (c.rows_tie_devices.ensures.before s rows row a.tied) k h)

pub returns-in-Some-clause-initiator : goal.returns-in-Some-clause-initiator
returns-in-Some-clause-initiator g c = λ s rows row n a h b r k l.
    c.shown.ensures.initiator s rows row n.initiator n a
    (some_in g.D.Device.IsOf s rows n.initiator c.args.place.now _ c.in-Some.is h) b r k refl l
