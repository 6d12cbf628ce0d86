use Rattle.dialogue_laws.proofs
use proofs.{DataRuns.{Bytes.{length_in, length_out}, Rows.{finishes, pauses}}, Leavings.Recoveries.{left_of}}
use Rattle.dialogue_laws.proofs.runs.data_runs_follow_the_policy.Goals as goal

pub returns-clause-pauses : goal.returns-clause-pauses
returns-clause-pauses c =
    λ s rows row n p o prompt w e more. pauses s rows row n p (left_of s rows row n p o prompt w) e more

pub returns-clause-finishes : goal.returns-clause-finishes
returns-clause-finishes c =
    λ s rows row n p o prompt w e last. finishes s rows row n p (left_of s rows row n p o prompt w) e last

pub returns-clause-bytes_out : goal.returns-clause-bytes_out
returns-clause-bytes_out c = λ s rows row n p next o prompt w to e f. length_out s rows row n p next o prompt
    (left_of s rows row n p o prompt w) to e f

pub returns-clause-bytes_in : goal.returns-clause-bytes_in
returns-clause-bytes_in c =
    λ s rows row n p o prompt w e. length_in s rows row n p o prompt (left_of s rows row n p o prompt w) e
