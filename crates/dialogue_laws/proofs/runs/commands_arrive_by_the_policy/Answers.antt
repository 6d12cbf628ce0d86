use Rattle.dialogue_laws.proofs.Leavings.Recoveries.{left_of}
use Rattle.dialogue_laws.proofs.DataRuns.Rows.{queues, refuses, starts_data, starts_status}
use Rattle.dialogue_laws.proofs.runs.commands_arrive_by_the_policy.Goals as goal

pub returns-clause-queued : goal.returns-clause-queued
returns-clause-queued c = λ s rows row n p o prompt w e. queues s rows row n p (left_of s rows row n p o prompt w) e

pub returns-clause-refused : goal.returns-clause-refused
returns-clause-refused c = λ s rows row n p o prompt w e. refuses s rows row n p (left_of s rows row n p o prompt w) e

pub returns-clause-data : goal.returns-clause-data
returns-clause-data c =
    λ s rows row n p o prompt w e more. starts_data s rows row n p (left_of s rows row n p o prompt w) e more

pub returns-clause-status : goal.returns-clause-status
returns-clause-status c =
    λ s rows row n p o prompt w e none. starts_status s rows row n p (left_of s rows row n p o prompt w) e none
