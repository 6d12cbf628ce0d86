use Rattle.bus_lines.specs.Stage.{stage}
use Rattle.bus_trace.specs.Trace.{drives}
use Rattle.connect.specs.Links.{myself}
use Rattle.connect.proofs.Peers.{present_peer}
use Rattle.connect.proofs.laws.linked_devices_are_ends.Goals as goal

pub returns : goal.returns
returns c = λ rows link. present_peer (drives rows (myself link).dev) link (stage rows)
