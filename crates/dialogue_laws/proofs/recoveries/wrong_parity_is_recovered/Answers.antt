use Rattle.dialogue_laws.proofs
use proofs.Leavings.Recoveries.{command_recovers, data_in_recovers, data_out_recovers, leaves_phase, left_of}
use proofs.Leavings.{Recoveries.{message_recovers, names_repeat, status_recovers, taken_all}, Rows.{phase_end}}
use Rattle.dialogue_laws.proofs.recoveries.wrong_parity_is_recovered.Goals as goal

pub returns-clause-command : goal.returns-clause-command
returns-clause-command c =
    λ s rows row n p o prompt w e f. command_recovers s rows row n p (left_of s rows row n p o prompt w) (e, f)

pub returns-clause-data_out : goal.returns-clause-data_out
returns-clause-data_out c =
    λ s rows row n p o prompt w e f. data_out_recovers s rows row n p (left_of s rows row n p o prompt w) (e, f)

pub returns-clause-data_in : goal.returns-clause-data_in
returns-clause-data_in c =
    λ s rows row n p o prompt w e. data_in_recovers s rows row n p (left_of s rows row n p o prompt w) e

pub returns-clause-status : goal.returns-clause-status
returns-clause-status c =
    λ s rows row n p o prompt w e. status_recovers s rows row n p o (left_of s rows row n p o prompt w) e

pub returns-clause-message : goal.returns-clause-message
returns-clause-message c = λ s rows row n p o prompt w e none name. message_recovers s rows row n p o
    (left_of s rows row n p o prompt w) e none name

pub returns-clause-names : goal.returns-clause-names
returns-clause-names c =
    λ s rows row n p o prompt w e none name. names_repeat s rows row n p (left_of s rows row n p o prompt w) e none name

pub returns-clause-out : goal.returns-clause-out
returns-clause-out c = λ s rows row n o prompt w e. taken_all s rows row n o (phase_end s rows row n o prompt w) w e

pub returns-clause-serves : goal.returns-clause-serves
returns-clause-serves c =
    λ s rows row n o prompt w other. leaves_phase s rows row n (phase_end s rows row n o prompt w) w other
