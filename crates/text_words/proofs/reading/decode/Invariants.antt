use Rattle.std.proofs.Common.{◌≡◌, ◌+◌, ◌*◌, ◌++◌, length, take}
use Rattle.text_words.specs.Words.{bytes_of}
use Rattle.text_words.proofs.reading.decode.Given as goal

-- the bytes written so far and those of the digits left are the bytes of all digits
abbrev pub invariant-loop-rest : goal.invariant-loop-rest
invariant-loop-rest l = record {
  room : 2 * l.at + length l.rest ≡ 2 * length l.bytes;
  bytes : take l.at l.bytes ++ bytes_of l.rest ≡ bytes_of l.digits;
}

abbrev pub decreases-loop-rest : goal.decreases-loop-rest
decreases-loop-rest l = length l.rest
