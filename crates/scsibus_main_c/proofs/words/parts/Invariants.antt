-- The parts so far, the part so far and the rest of the text are the whole text.
use Rattle.std.proofs.Common.{◌≡◌, [], ◌++◌, drop, map, string_bytes}
use Rattle.scsibus_main_c.specs.Words.{parts_of}
use Rattle.scsibus_main_c.proofs.words.parts.Given as goal

abbrev pub invariant-loop-byte : goal.invariant-loop-byte
invariant-loop-byte l =
    map string_bytes l.parts.items ++ parts_of (string_bytes l.part) (drop l.byte-index l.text) ≡ parts_of [] l.text
