-- What is left of the parts makes of it what all of them make of the first.
use Rattle.std.proofs.Common.{◌≡◌, length}
use Rattle.bus_transcript.specs.Accounts.{account_after_all}
use Rattle.bus_transcript.proofs.account.Account.take_all.Given as goal

abbrev pub invariant-loop-part : goal.invariant-loop-part
invariant-loop-part l = account_after_all l.self l.left.items ≡ account_after_all l.initial.self l.initial.left.items

abbrev pub decreases-loop-part : goal.decreases-loop-part
decreases-loop-part l = length l.left.items
