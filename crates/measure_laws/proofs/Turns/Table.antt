-- What is left after the phase to which a target goes, by the messages and by what follows them.
use Rattle.measure_laws.proofs
use proofs.Names.{ℕ, Option, Some, None, ◌+◌, ◌*◌, Leaving, Phase, after_next}

-- What is left after the phase to which it goes, MESSAGE OUT apart.
abbrev pub left_in : Leaving → Phase → ℕ
left_in l Phase.MessageIn = after_next l.messages l.next
left_in l Phase.Command = 1024 + 4 * 128
left_in l Phase.Status = 2 * 128
left_in l Phase.DataIn = 3 * 128
left_in l Phase.DataOut = 3 * 128
left_in l Phase.MessageOut = 0

abbrev pub left_to : Leaving → Option Phase → ℕ
left_to l None = 0
left_to l (Some phase) = left_in l phase

abbrev pub left_of : Leaving → ℕ
left_of l = left_to l l.to
