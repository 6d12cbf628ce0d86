use Rattle.std.proofs.Common.{◌∙◌, length, take, drop}
use Rattle.target_units.proofs.Tellings.{bytes_seen}
use Rattle.target_units.proofs.seated.SeatedUnit.fetch.Goals as goal

pub returns-clause-seat : goal.returns-clause-seat
returns-clause-seat c = λ hosts seat time sent h host. c.fetch_now.ensures
    ∙ (λ i. take (length c.args.into.now) (drop c.args.at
    (bytes_seen hosts seat time c.args.self.now c.args.from c.args.cdb.now sent c.requires.device h host i)))
