use Rattle.std.proofs.Common.{ℕ, List, sym, subst}
use Rattle.std.specs.Prelude.{slice_set}
use Rattle.story_model.specs.CarriedBytes.{area_with}
use Rattle.io_pointers.specs.HostBuffer.{IsHeld}
use Rattle.io_pointers.proofs.Held.{put_held}
use Rattle.io_pointers.proofs.buffer.HostBuffer.put.Goals as goal

pub returns-clause-held : goal.returns-clause-held
returns-clause-held c = λ a e h. subst
    (λ (buffer : List ℕ). IsHeld (area_with a c.args.byte) (slice_set buffer c.args.at c.args.byte))
    (sym c.self.view_is) (put_held a c.args.self.now c.args.at c.args.byte e c.requires h)
