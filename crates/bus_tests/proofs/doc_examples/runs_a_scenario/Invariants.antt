-- The ledger is the blank's.
use Rattle.bus_tests.proofs.doc_examples.runs_a_scenario.Given as goal

abbrev pub ghosts-run_counted : goal.ghosts-run_counted
ghosts-run_counted a = λ b. record { name = b.blank.name; parts = b.blank.parts }
