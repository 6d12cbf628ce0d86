use Rattle.array_model.proofs.SoundArrays.{history_sound, step_sound}
use Rattle.array_model.proofs.seats.arrays_are_sound.Goals as goal

pub returns : goal.returns
returns c = record { always = history_sound; goes_on = step_sound }
