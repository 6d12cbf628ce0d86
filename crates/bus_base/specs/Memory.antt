-- A source and a sink in memory: what they hold, and what a call does to them.
use Rattle.std.specs.Prelude.{ℕ, ◌-◌, min, List, [], ◌++◌, length, take, drop, Bool, ◌==◌, ◌&&◌, ◌||◌, if◌then◌else◌}
use Rattle.std.specs.Prelude.{Result, Ok, Err, nat_lt}
use Rattle.std.specs.List.{list_any}
use Rattle.bus_base.specs.Faults.{counted_on}
use Rattle.bus_base.specs.declared.failures.Failed.{Failed}

-- A source: the bytes not yet handed out, the most bytes of one call, the numbers of the calls
-- that fail, the number of calls so far, and how many have failed.
pub record SourceState : Type 0 where
  pub bytes : List ℕ
  pub most : ℕ
  pub fail : List ℕ
  pub calls : ℕ
  pub faults : ℕ

-- A sink: the bytes written so far, how many bytes it has room for in all, the most bytes of one
-- call, the numbers of the calls that fail, the number of calls so far, and how many have failed.
pub record SinkState : Type 0 where
  pub bytes : List ℕ
  pub room : ℕ
  pub most : ℕ
  pub fail : List ℕ
  pub calls : ℕ
  pub faults : ℕ

-- the call after this many calls is one of those that fail; calls are numbered from 1
abbrev pub fails_after : List ℕ → ℕ → Bool
fails_after fail calls = list_any (λ call. call == counted_on calls) fail

-- a source that was not called yet
abbrev pub new_source : List ℕ → ℕ → List ℕ → SourceState
new_source bytes most fail = record { bytes = bytes; most = most; fail = fail; calls = 0; faults = 0 }

-- the next call of this source fails
abbrev pub read_fails : SourceState → Bool
read_fails s = fails_after s.fail s.calls

-- how many bytes the next call hands out with this room, where it does not fail
abbrev pub read_count : SourceState → ℕ → ℕ
read_count s room = min (min room s.most) (length s.bytes)

-- what the next call answers with this room
abbrev pub read_result : SourceState → ℕ → Result ℕ Failed
read_result s room = if read_fails s then Err (record {}) else Ok (read_count s room)

-- what stands in the buffer after the next call
abbrev pub read_into : SourceState → List ℕ → List ℕ
read_into s into =
    if read_fails s
    then into
    else take (read_count s (length into)) s.bytes ++ drop (read_count s (length into)) into

-- the source after the next call with this room
abbrev pub read_state : SourceState → ℕ → SourceState
read_state s room =
    if read_fails s
    then (record s { calls = counted_on s.calls; faults = counted_on s.faults })
    else (record s { calls = counted_on s.calls; bytes = drop (read_count s room) s.bytes })

-- an empty sink that was not called yet
abbrev pub new_sink : ℕ → ℕ → List ℕ → SinkState
new_sink room most fail =
    record { bytes = []; room = room; most = most; fail = fail; calls = 0; faults = 0 }

-- the next call with a piece of this length fails: by its number, or for want of room
abbrev pub write_fails : SinkState → ℕ → Bool
write_fails s len = fails_after s.fail s.calls || (nat_lt 0 len && (s.room - length s.bytes == 0))

-- how many bytes of a piece of this length the next call takes, where it does not fail
abbrev pub write_count : SinkState → ℕ → ℕ
write_count s len = min (min len s.most) (s.room - length s.bytes)

-- what the next call answers to a piece of this length
abbrev pub write_result : SinkState → ℕ → Result ℕ Failed
write_result s len = if write_fails s len then Err (record {}) else Ok (write_count s len)

-- the sink after the next call with this piece
abbrev pub write_state : SinkState → List ℕ → SinkState
write_state s piece =
    if write_fails s (length piece)
    then (record s { calls = counted_on s.calls; faults = counted_on s.faults })
    else (record s { calls = counted_on s.calls; bytes = s.bytes ++ take (write_count s (length piece)) piece })
