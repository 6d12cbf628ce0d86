use Rattle.delivery_laws.proofs
use proofs.Names.{not, sym, ◌∙◌, ◌&&◌, if◌then◌else◌, command_of, tape_command_of, is_sound_command, is_plain_at_tape}
use proofs.Names.{is_tape_fault}
use Rattle.delivery_laws.proofs.laws.disks_check_what_is_not_valid.Goals as goal

pub returns : goal.returns
returns c = λ s n disk there.
    (λ i. if disk i then is_tape_fault (tape_command_of n.cdb) else not (is_sound_command s n (command_of n.cdb)))
    ∙ sym (λ i. not (there i && (if disk i then is_plain_at_tape (tape_command_of n.cdb)
    else is_sound_command s n (command_of n.cdb))))
