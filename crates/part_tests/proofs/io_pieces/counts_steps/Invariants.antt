-- The ledger is the blank's.
use Rattle.part_tests.proofs.io_pieces.counts_steps.Given as goal

abbrev pub ghosts-two_steps : goal.ghosts-two_steps
ghosts-two_steps a = record { name = a.blank.name; parts = a.blank.parts }
