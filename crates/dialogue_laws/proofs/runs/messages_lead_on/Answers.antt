use Rattle.dialogue_laws.proofs.Leavings.Recoveries.{left_of}
use Rattle.dialogue_laws.proofs.DataRuns.Rows.{to_command, to_data, to_end, to_free, to_status}
use Rattle.dialogue_laws.proofs.runs.messages_lead_on.Goals as goal

pub returns-clause-command : goal.returns-clause-command
returns-clause-command c =
    λ s rows row n p o prompt w e. to_command s rows row n p (left_of s rows row n p o prompt w) e

pub returns-clause-status : goal.returns-clause-status
returns-clause-status c = λ s rows row n p o prompt w e. to_status s rows row n p (left_of s rows row n p o prompt w) e

pub returns-clause-free : goal.returns-clause-free
returns-clause-free c = λ s rows row n p o prompt w e. to_free s rows row n p (left_of s rows row n p o prompt w) e

pub returns-clause-data : goal.returns-clause-data
returns-clause-data c =
    λ s rows row n p o prompt w e more. to_data s rows row n p (left_of s rows row n p o prompt w) e more

pub returns-clause-ends : goal.returns-clause-ends
returns-clause-ends c =
    λ s rows row n p o prompt w e none. to_end s rows row n p (left_of s rows row n p o prompt w) e none
