-- The bus after some rows, and what a row does on it. The terms are those of `bus_rules`, kept from row to row.
use Rattle.std.specs.Prelude.{◌%◌, Bool, true, false, List, [], ◌∷◌, ◌++◌, replicate, slice_set, Option, Some, None}
use Rattle.std.specs.Prelude.{is_some, if◌then◌else◌}
use Rattle.bus_phases.specs.bus_trace.specs.LineSet.{LineSet, none}
use Rattle.bus_phases.specs.bus_trace.specs.View.{driven_at, union_all}
use Rattle.bus_phases.specs.bus_trace.specs.Trace.{driven_after}
use Rattle.bus_phases.specs.bus_trace.specs.declared.Row.{Row}
use Rattle.bus_phases.specs.msg_grammar.specs.declared.message.Got.{Got}
use Rattle.bus_phases.specs.msg_grammar.specs.declared.message.Got.TheVariants.{Whole, More, Unknown}
use Rattle.bus_phases.specs.msg_grammar.specs.declared.message.MsgOut.{MsgOut}
use Rattle.bus_phases.specs.msg_grammar.specs.declared.message.MsgIn.{MsgIn}
use Rattle.bus_phases.specs.msg_grammar.specs.Messages.{got_out, got_in}
use Rattle.bus_phases.specs.bus_trace.specs.declared.changes.Change.{Change}
use Rattle.bus_phases.specs.bus_trace.specs.declared.selection.Call.{Call}
use Rattle.bus_phases.specs.bus_trace.specs.declared.connection.Connection.{Connection}
use Rattle.bus_phases.specs.declared.dialogue.Dialogue.{Dialogue}
use Rattle.bus_phases.specs.bus_trace.specs.Terms.{call_after, connection_after, receiver_of}
use Rattle.bus_phases.specs.bus_trace.specs.Phases.{is_message_out, is_message_in}
use Rattle.bus_phases.specs.Dialogue.{asynchronous, opened, dialogue_after, fresh_bytes}
use Rattle.story_model.specs.PairAgreements.{PairAgreement, agreement_in, agreements_at_end}

pub record BusState : Type 0 where
  -- what each device drives, and the union
  pub driven : List LineSet
  pub bus : LineSet
  pub call : Option Call
  pub connection : Option Connection
  -- what its messages have said, and what those of earlier connections have agreed on
  pub dialogue : Dialogue
  pub agreed : List PairAgreement
  -- the change of the last row, where a byte crossed in it
  pub crossed : Option Change

abbrev pub quiet_bus : BusState
quiet_bus = record {
  driven = replicate 8 none;
  bus = none;
  call = None;
  connection = None;
  dialogue = opened asynchronous;
  agreed = [];
  crossed = None;
}

-- What a row does: what it changes, the connection after it, and the messages that it makes whole, bytes that were
-- begun anew being left out.
pub record RowReading : Type 0 where
  pub change : Change
  pub next : Option Connection
  pub crosses : Bool
  pub out : Option MsgOut
  pub into : Option MsgIn

abbrev pub change_to : BusState → Row → LineSet → Change
change_to w row next = record {
  before = w.bus;
  after = union_all (slice_set w.driven row.dev next);
  own = driven_at w.driven row.dev;
  next = next;
}

abbrev pub change_by : BusState → Row → Change
change_by w row = change_to w row (driven_after row.kind (driven_at w.driven row.dev))

abbrev pub whole_out : Got MsgOut → Option MsgOut
whole_out (Whole m n) = Some m
whole_out More = None
whole_out Unknown = None

abbrev pub whole_in : Got MsgIn → Option MsgIn
whole_in (Whole m n) = Some m
whole_in More = None
whole_in Unknown = None

abbrev pub message_out : Dialogue → Change → Bool → Option MsgOut
message_out d c true =
    if is_message_out c.before then whole_out (got_out (fresh_bytes d ++ c.after.data_bits % 256 ∷ [])) else None
message_out d c false = None

abbrev pub message_in : Dialogue → Change → Bool → Option MsgIn
message_in d c true =
    if is_message_in c.before then whole_in (got_in (d.half ++ c.after.data_bits % 256 ∷ [])) else None
message_in d c false = None

abbrev pub row_reading_with : BusState → Row → Change → Bool → RowReading
row_reading_with w row c crosses = record {
  change = c;
  next = connection_after w.connection w.call c row;
  crosses = crosses;
  out = message_out w.dialogue c crosses;
  into = message_in w.dialogue c crosses;
}

abbrev pub row_reading_of : BusState → Row → Change → RowReading
row_reading_of w row c = row_reading_with w row c (is_some (receiver_of w.connection c))

abbrev pub row_reading : BusState → Row → RowReading
row_reading w row = row_reading_of w row (change_by w row)

abbrev pub bus_state_after : BusState → Row → RowReading → BusState
bus_state_after w row d = record {
  driven = slice_set w.driven row.dev d.change.next;
  bus = d.change.after;
  call = call_after w.call d.change row;
  connection = d.next;
  dialogue = dialogue_after w.dialogue w.connection d.next (λ i t. agreement_in w.agreed i t) d.change;
  agreed =
      if d.change.after.rst then []
      else agreements_at_end w.agreed w.connection d.change.after.bsy w.dialogue.heard.now;
  crossed = if d.crosses then Some d.change else None;
}
