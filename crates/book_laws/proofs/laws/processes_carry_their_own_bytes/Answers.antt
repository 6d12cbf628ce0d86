use Rattle.book_laws.proofs
use proofs.{Names.{run_state}, Carried.{Commands.{block_own, block_follows}, Facts.{carry_on, all_carry}}}
use Rattle.book_laws.proofs.laws.processes_carry_their_own_bytes.Goals as goal

-- src/laws.rt
pub returns-clause-rows : goal.returns-clause-rows
returns-clause-rows c = λ s rows sends. all_carry s rows sends

-- src/laws.rt
pub returns-clause-next : goal.returns-clause-next
returns-clause-next c = λ s rows row sends h. carry_on s (run_state s rows) row sends h

-- src/laws.rt
pub returns-clause-block : goal.returns-clause-block
returns-clause-block c = λ s k p h served whole yet. block_own s k p h served whole yet

-- src/laws.rt
pub returns-clause-follows : goal.returns-clause-follows
returns-clause-follows c = λ s k p h own whole yet. block_follows s k p h own whole yet
