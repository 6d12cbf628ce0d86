-- The bytes that the initiator gives.
use Rattle.std.specs.Prelude.{ℕ, List, [], slice_index_or, if◌then◌else◌}
use Rattle.story_model.specs.bus_trace.specs.LineSet.{LineSet}
use Rattle.story_model.specs.bus_trace.specs.Phases.{is_message_out, is_command}
use Rattle.dialogue_model.specs.Exchange.{Speech, next_word}

-- What the initiator has to send of the process of the connection: the bytes of its command and of its data, and the
-- active pointers to them.
pub record Sending : Type 0 where
  pub cdb : List ℕ
  pub sent : List ℕ
  pub command : ℕ
  pub moved : ℕ

abbrev pub nothing_to_send : Sending
nothing_to_send = record { cdb = []; sent = []; command = 0; moved = 0 }

abbrev pub byte_to_send : LineSet → Speech → Sending → ℕ
byte_to_send bus p o =
    if is_message_out bus then next_word p
    else if is_command bus then slice_index_or o.cdb o.command 0
    else slice_index_or o.sent o.moved 0
