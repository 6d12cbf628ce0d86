-- A tape after a write, by what a write is made of.
use Rattle.std.proofs.Common.{ℕ, ◌≡◌, ◌+◌, ◌-◌, ◌≤◌, true, false, List, ◌++◌, ◌∙◌}
use Rattle.std.proofs.Common.{length, take}
use Rattle.std.specs.Prelude.{◌==◌, if◌then◌else◌}
use Rattle.std.proofs.lemmas.List.{length-append, length-take-le}
use Rattle.array_model.specs.Reels.{Object, Reel, blocks_of, filemarks}
use Rattle.array_model.specs.TapeExecution.{has_room, written_reel, with_reel}
use Rattle.tape_unit.specs.Tape.{at, cut, with_objects}
use Rattle.tape_unit.specs.Stored.{Store, with_tape, with_blocks}

-- At its end.
abbrev at_end : Store → Store
at_end s = with_tape s (at s.tape (length s.tape.reel.objects))

end_of : (r : Reel) (more : List Object) → r.position ≤ length r.objects
    → length (take r.position r.objects ++ more) ≡ r.position + length more
end_of r more l =
    length-append (take r.position r.objects) more
    ∙ (λ i. length-take-le r.position r.objects l i + length more)

-- Blocks behind the position.
pub blocks_written : (s a b d : Store) (n e : ℕ) (sent : List ℕ) → a ≡ with_tape s (cut s.tape)
    → b ≡ with_blocks a n sent → e ≡ length b.tape.reel.objects → d ≡ with_tape b (at b.tape e)
    → s.tape.reel.position ≤ length s.tape.reel.objects → (n == 0) ≡ false → has_room s.tape n ≡ true → d ≡ record {
      tape = with_reel s.tape (written_reel s.tape n (blocks_of s.tape.size n sent));
      spare = s.spare - (if has_room s.tape n then n else 0);
    }
blocks_written s a b d n e sent ea eb ee ed l z r =
    ed ∙ (λ i. with_tape b (at b.tape (ee i))) ∙ (λ i. at_end (eb i)) ∙ (λ i. at_end (with_blocks (ea i) n sent))
    ∙ rw (z, r) (λ i. record {
      tape = with_reel s.tape (record {
        objects = take s.tape.reel.position s.tape.reel.objects ++ blocks_of s.tape.size n sent;
        position = end_of s.tape.reel (blocks_of s.tape.size n sent) l i;
      });
      spare = s.spare - n;
    })

-- Filemarks behind it.
pub filemarks_written : (s a b d : Store) (n e : ℕ) → a ≡ with_tape s (cut s.tape)
    → b ≡ with_tape a (with_objects a.tape (filemarks n))
    → e ≡ length b.tape.reel.objects → d ≡ with_tape b (at b.tape e)
    → s.tape.reel.position ≤ length s.tape.reel.objects → (n == 0) ≡ false → has_room s.tape n ≡ true
    → d ≡ with_tape s (with_reel s.tape (written_reel s.tape n (filemarks n)))
filemarks_written s a b d n e ea eb ee ed l z r =
    ed ∙ (λ i. with_tape b (at b.tape (ee i))) ∙ (λ i. at_end (eb i))
    ∙ (λ i. at_end (with_tape (ea i) (with_objects (ea i).tape (filemarks n))))
    ∙ rw (z, r) (λ i. with_tape s (with_reel s.tape (record {
      objects = take s.tape.reel.position s.tape.reel.objects ++ filemarks n;
      position = end_of s.tape.reel (filemarks n) l i;
    })))
