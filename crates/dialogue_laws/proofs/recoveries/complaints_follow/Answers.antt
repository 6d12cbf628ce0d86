use Rattle.dialogue_laws.proofs
use proofs.{Leavings.Recoveries.{left_of}, Struck.Complaints.{data_in_attends, data_in_complains, message_complains}}
use proofs.Struck.{Complaints.{status_complains}, Phases.{is_talk, struck_attends}, Refusals.{cause_stays, refused_out}}
use proofs.Struck.Runs.{run_attends}
use Rattle.dialogue_laws.proofs.recoveries.complaints_follow.Goals as goal

pub returns-clause-data_in : goal.returns-clause-data_in
returns-clause-data_in c =
    λ s rows row n p o prompt w e atn. data_in_complains s rows row n p (left_of s rows row n p o prompt w) e atn

pub returns-clause-status : goal.returns-clause-status
returns-clause-status c =
    λ s rows row n p o prompt w e atn. status_complains s rows row n p (left_of s rows row n p o prompt w) e atn

pub returns-clause-message : goal.returns-clause-message
returns-clause-message c = λ s rows row n p o prompt w e atn struck. message_complains s rows row n p
    (left_of s rows row n p o prompt w) e atn struck

pub returns-clause-struck : goal.returns-clause-struck
returns-clause-struck c =
    λ s rows row n p o prompt w e. data_in_attends s rows row n p o prompt (left_of s rows row n p o prompt w) e

pub returns-clause-struck_data : goal.returns-clause-struck_data
returns-clause-struck_data c = λ s rows row n p o prompt w e f.
    let h = left_of s rows row n p o prompt w in
    data_in_complains s rows row n p h e (run_attends s rows row n p o prompt h e f)

pub returns-clause-struck_status : goal.returns-clause-struck_status
returns-clause-struck_status c = λ s rows row n p o prompt w e f. status_complains s rows row n p
    (left_of s rows row n p o prompt w) e (struck_attends s rows row n o prompt w.leaving_row (λ i. is_talk (e i)) f).0

pub returns-clause-struck_message : goal.returns-clause-struck_message
returns-clause-struck_message c = λ s rows row n p o prompt w e f.
    let x = struck_attends s rows row n o prompt w.leaving_row (λ i. is_talk (e i)) f in
    message_complains s rows row n p (left_of s rows row n p o prompt w) e x.0 x.1

pub returns-clause-heard : goal.returns-clause-heard
returns-clause-heard c = λ s rows row n p o prompt w e refusing. refused_out s rows row n p o prompt
    (left_of s rows row n p o prompt w) e refusing

pub returns-clause-same : goal.returns-clause-same
returns-clause-same c = λ s rows row n o prompt w. cause_stays s rows row n o prompt w
