-- What the initiator of a connection has to say, row by row.
use Rattle.std.specs.Prelude.{ℕ, not, ◌&&◌, List, Option, if◌then◌else◌}
use Rattle.story_model.specs.bus_trace.specs.declared.agreements.Agreement.{Agreement}
use Rattle.story_model.specs.bus_trace.specs.Phases.{is_message_out, is_message_in, changes_phase}
use Rattle.scenario.specs.declared.value.HostDef.{HostDef}
use Rattle.dialogue_model.specs.declared.exchange.Hearing.{Hearing}
use Rattle.dialogue_model.specs.Exchange.{Speech, speech_of, speech_after_byte, speech_after_request}
use Rattle.dialogue_model.specs.Words.{parity_error, detected_error, answer_bytes}

-- MESSAGE OUT begins: of the byte of MESSAGE IN before it, or of the data or the status.
abbrev pub words_after : Option HostDef → Hearing → Agreement → List ℕ
words_after h w asked =
    if not (is_message_in w.change.before) then detected_error
    else if w.struck then parity_error
    else answer_bytes h asked

-- A phase begins; the first MESSAGE OUT of a selection is for the opening.
abbrev pub speech_in_phase : Option HostDef → Hearing → Speech → Speech
speech_in_phase h w p =
    if is_message_out w.change.after && w.begun then speech_of p (words_after h w p.asked) else record p { place = 0 }

abbrev pub speech_with_byte : Hearing → Speech → Speech
speech_with_byte w p = if is_message_out w.change.before then speech_after_byte p else speech_after_request p w.into

abbrev pub speech_after : Option HostDef → Hearing → Speech → Speech
speech_after h w p =
    if changes_phase w.change then speech_in_phase h w p
    else if w.crosses then speech_with_byte w p
    else p
