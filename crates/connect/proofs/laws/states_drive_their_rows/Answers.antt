use Rattle.connect.specs.Devices.{device_at}
use Rattle.connect.specs.Links.{device_of}
use Rattle.connect.proofs.AfterRows.{device_after_row}
use Rattle.connect.proofs.laws.states_drive_their_rows.Goals as goal

pub returns-clause-row : goal.returns-clause-row
returns-clause-row c = λ link now s lines i. (device_after_row link (device_at (device_of link) lines now) s i).me
