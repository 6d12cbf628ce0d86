-- The exchange of an initiator and a target that the rows of a trace make, row by row.
use Rattle.std.specs.Prelude.{ℕ, Bool, true, false, ◌%◌, ◌&&◌, ◌||◌, ◌==◌, List, [], ◌∷◌, ◌++◌, Option, Some, None}
use Rattle.std.specs.Prelude.{is_some, if◌then◌else◌}
use Rattle.bus_trace.specs.declared.Row.{Row}
use Rattle.bus_trace.specs.declared.changes.Change.{Change}
use Rattle.bus_trace.specs.declared.connection.Connection.{Connection}
use Rattle.bus_trace.specs.Changes.{change_of}
use Rattle.bus_trace.specs.Terms.{connection, receiver_of}
use Rattle.bus_trace.specs.Phases.{is_message_out, is_message_in, is_command, changes_phase}
use Rattle.msg_grammar.specs.declared.message.Got.{Got}
use Rattle.msg_grammar.specs.declared.message.Got.TheVariants.{Whole, More, Unknown}
use Rattle.msg_grammar.specs.declared.message.MsgOut.{MsgOut}
use Rattle.msg_grammar.specs.declared.message.MsgIn.{MsgIn}
use Rattle.msg_grammar.specs.Messages.{got_out, got_in}
use Rattle.dialogue_model.specs.bus_phases.specs.declared.dialogue.Dialogue.{Dialogue}
use Rattle.dialogue_model.specs.bus_phases.specs.Dialogue.{word_out, word_in, fresh_bytes, dialogue}
use Rattle.sync_nego.specs.Exchange.{Turn, connects, begins_phase, begins_anew, to_target, begins_message, to_initiator}
use Rattle.sync_nego.specs.Exchange.{in_command, resets}

-- ---- a byte that crosses

abbrev pub anew_if : Bool → List Turn → List Turn
anew_if true ts = begins_anew ∷ ts
anew_if false ts = ts

abbrev pub out_turns : Got MsgOut → List Turn → List Turn
out_turns (Whole m n) ts = to_target (word_out m) ∷ ts
out_turns More ts = ts
out_turns Unknown ts = ts

-- Without half a message so far, one begins.
abbrev pub begins_if : List ℕ → List Turn → List Turn
begins_if [] ts = begins_message ∷ ts
begins_if (b ∷ bytes) ts = ts

abbrev pub in_turns : Got MsgIn → List Turn → List Turn
in_turns (Whole m n) ts = to_initiator (word_in m) ∷ ts
in_turns More ts = ts
in_turns Unknown ts = ts

abbrev pub byte_turns : Dialogue → Change → List Turn → List Turn
byte_turns d c ts =
    if is_message_out c.before
    then out_turns (got_out (fresh_bytes d ++ c.after.data_bits % 256 ∷ [])) (anew_if d.is_last ts)
    else if is_message_in c.before then in_turns (got_in (d.half ++ c.after.data_bits % 256 ∷ [])) (begins_if d.half ts)
    else if is_command c.before then in_command (c.after.data_bits % 256) ∷ ts else ts

abbrev pub dialogue_turns : Dialogue → Connection → Change → List Turn → List Turn
dialogue_turns d n c ts =
    if is_some (receiver_of (Some n) c) then byte_turns d c ts
    else if changes_phase c then begins_phase ∷ ts
    else ts

-- ---- a row

abbrev pub resets_if : Bool → List Turn → List Turn
resets_if true ts = resets ∷ ts
resets_if false ts = ts

-- The connection is of this initiator and this target.
abbrev pub is_of_pair : Connection → ℕ → ℕ → Bool
is_of_pair n i t = n.initiator == i && n.target == t

-- A connection of the two: its messages; RST at its end.
abbrev pub pair_turns : Option Connection → Dialogue → Connection → Change → List Turn → List Turn
pair_turns (Some m) d n c ts = dialogue_turns d n c ts
pair_turns None d n c ts = resets_if c.after.rst ts

-- A connection of others: RST, or its end after BUS DEVICE RESET to this target.
abbrev pub ends_all : Option Connection → Dialogue → Connection → Change → ℕ → Bool
ends_all (Some m) d n c t = c.after.rst
ends_all None d n c t = c.after.rst || (t == n.target && d.heard.now.device_reset)

abbrev pub row_turns : Option Connection → Option Connection → Dialogue → Change → ℕ → ℕ → List Turn → List Turn
row_turns None None d c i t ts = resets_if c.after.rst ts
row_turns None (Some n) d c i t ts = if is_of_pair n i t then connects ∷ ts else resets_if c.after.rst ts
row_turns (Some n) after d c i t ts =
    if is_of_pair n i t then pair_turns after d n c ts else resets_if (ends_all after d n c t) ts

abbrev pub turns : List Row → ℕ → ℕ → List Turn
turns [] i t = []
turns (row ∷ rows) i t =
    row_turns (connection rows) (connection (row ∷ rows)) (dialogue rows) (change_of rows row) i t (turns rows i t)
