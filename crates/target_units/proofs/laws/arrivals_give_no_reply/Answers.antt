use Rattle.target_units.proofs.Arrivals.{arrival_replies}
use Rattle.target_units.proofs.laws.arrivals_give_no_reply.Goals as goal

pub returns : goal.returns
returns c = λ s a b id e. arrival_replies s a b id e
