-- What a command does at a tape, but for what is kept for its initiator; what it may write, and what it takes.
use Rattle.std.specs.Prelude.{ℕ, ◌*◌, ◌==◌, Bool, true, false, ◌||◌, List, [], Result, Ok, Err, if◌then◌else◌}
use Rattle.cdb_codec.specs.declared.status.TheConstants.{GOOD}
use Rattle.cdb_codec.specs.declared.command.CdbFault.{CdbFault}
use Rattle.cdb_codec.specs.declared.tape_command.TapeCommand.{TapeCommand}
use Rattle.cdb_codec.specs.declared.tape_command.TapeCommand.TheVariants as tapes
use Rattle.cdb_codec.specs.TapeCdb.{tape_command_of}
use Rattle.array_model.specs.Replies.{Reply, no_sense}
use Rattle.array_model.specs.TapeExecution.{Tape, TapeExecution, with_reel, has_room, tape_cdb_execution}

-- ---- a command where nothing is stored for its initiator

abbrev pub tape_done : Tape → List ℕ → List ℕ → TapeExecution
tape_done t cdb sent = tape_cdb_execution t no_sense (tape_command_of cdb) sent

abbrev pub tape_after : Tape → List ℕ → List ℕ → Tape
tape_after t cdb sent = with_reel t (tape_done t cdb sent).reel

abbrev pub tape_reply : Tape → List ℕ → Reply
tape_reply t cdb = (tape_done t cdb []).reply

-- It ends GOOD.
abbrev pub is_carried_out : Tape → List ℕ → Bool
is_carried_out t cdb = (tape_reply t cdb).status == GOOD

-- A command without fault that moves over what it meets, and so also where it ends with CHECK CONDITION.
abbrev pub is_walk : Result TapeCommand CdbFault → Bool
is_walk (Ok tapes.TestUnitReady) = false
is_walk (Ok tapes.Rewind) = false
is_walk (Ok (tapes.RequestSense room)) = false
is_walk (Ok (tapes.Read n)) = true
is_walk (Ok (tapes.Write n)) = false
is_walk (Ok (tapes.Inquiry room)) = false
is_walk (Ok (tapes.Filemarks n)) = false
is_walk (Ok (tapes.Space code count)) = true
is_walk (Err fault) = false

-- It makes the tape new: where it moves, and where it is carried out.
abbrev pub is_changed : Tape → List ℕ → Bool
is_changed t cdb = is_walk (tape_command_of cdb) || is_carried_out t cdb

-- ---- what a command may write, whatever the tape holds, and what it takes if it runs now

-- How many blocks it writes at most.
abbrev pub blocks_written : Result TapeCommand CdbFault → ℕ
blocks_written (Ok tapes.TestUnitReady) = 0
blocks_written (Ok tapes.Rewind) = 0
blocks_written (Ok (tapes.RequestSense room)) = 0
blocks_written (Ok (tapes.Read n)) = 0
blocks_written (Ok (tapes.Write n)) = n
blocks_written (Ok (tapes.Inquiry room)) = 0
blocks_written (Ok (tapes.Filemarks n)) = 0
blocks_written (Ok (tapes.Space code count)) = 0
blocks_written (Err fault) = 0

abbrev pub cost_of : List ℕ → ℕ
cost_of cdb = blocks_written (tape_command_of cdb)

-- How many blocks it writes now: none where there is no room for all.
abbrev pub blocks_taken : Tape → Result TapeCommand CdbFault → ℕ
blocks_taken t (Ok tapes.TestUnitReady) = 0
blocks_taken t (Ok tapes.Rewind) = 0
blocks_taken t (Ok (tapes.RequestSense room)) = 0
blocks_taken t (Ok (tapes.Read n)) = 0
blocks_taken t (Ok (tapes.Write n)) = if has_room t n then n else 0
blocks_taken t (Ok (tapes.Inquiry room)) = 0
blocks_taken t (Ok (tapes.Filemarks n)) = 0
blocks_taken t (Ok (tapes.Space code count)) = 0
blocks_taken t (Err fault) = 0

-- How many bytes it takes for them.
abbrev pub taken_now : Tape → List ℕ → ℕ
taken_now t cdb = blocks_taken t (tape_command_of cdb) * t.size
