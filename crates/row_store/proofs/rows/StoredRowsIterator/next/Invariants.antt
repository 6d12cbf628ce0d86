-- The words so far were times alone.
use Rattle.std.proofs.Common.{◌≡◌, length}
use Rattle.row_store.specs.Words.{rows_from}
use Rattle.row_store.proofs.rows.StoredRowsIterator.next.Given as goal

abbrev pub invariant-loop-word : goal.invariant-loop-word
invariant-loop-word l = rows_from l.self-inside.time l.self-inside.words.now
    ≡ rows_from l.initial.self-inside.time l.initial.self-inside.words.now

abbrev pub decreases-loop-word : goal.decreases-loop-word
decreases-loop-word l = length l.self-inside.words.now
