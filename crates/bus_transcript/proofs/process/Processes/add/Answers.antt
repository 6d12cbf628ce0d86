use Rattle.std.proofs.Common.{◌∙◌}
use Rattle.std.specs.Prelude.{Some, if◌then◌else◌}
use Rattle.std.specs.BTreeMap.{is_at}
use Rattle.bus_transcript.specs.Keys.{key_of, key_cmp}
use Rattle.bus_transcript.specs.Processes.{process_of}
use Rattle.bus_transcript.proofs.Nexuses.{by_key}
use Rattle.bus_transcript.proofs.process.Processes.add.Goals as goal

pub returns-clause-last : goal.returns-clause-last
returns-clause-last c = λ name. c.in_ok-insert.ensures.updates.0 (key_of name) ∙ (λ i.
    if is_at (key_cmp (c.key.ensures i)) (key_of name) then Some c.args.process else process_of (c.self.view_is i) name)
    ∙ (λ i. if by_key c.args.process.name name i then Some c.args.process else process_of c.args.self.now name)
