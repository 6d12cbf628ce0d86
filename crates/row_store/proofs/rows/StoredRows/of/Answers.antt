use Rattle.row_store.proofs.Appended.{rows_short}
use Rattle.row_store.proofs.rows.StoredRows.of.Goals as goal

pub returns-clause-few : goal.returns-clause-few
returns-clause-few c = rows_short 0 c.args.words.now
