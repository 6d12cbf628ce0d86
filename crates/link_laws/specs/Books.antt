-- What the laws of a connection do not prove of what the messages, the command and the data say: premises, one for
-- each.
use Rattle.std.specs.Prelude.{◌≡◌, Bool, true, not, ◌&&◌, List, [], ◌∷◌}
use Rattle.bus_laws.specs.Stages.{is_connected}
use Rattle.due_model.specs.bus_trace.specs.declared.Row.{Row}
use Rattle.due_model.specs.bus_trace.specs.Changes.{falls, implies}
use Rattle.due_model.specs.bus_trace.specs.Phases.{is_data}
use Rattle.due_model.specs.bus_rules.specs.Seen.{seen}
use Rattle.due_model.specs.bus_rules.specs.Transfer.{has_parity}
use Rattle.due_model.specs.bus_trace.specs.Trace.{bus}
use Rattle.due_model.specs.bus_rules.specs.Messages.{keeps_messages, keeps_command}

-- A byte that crosses in this row has odd parity (6.1.5): each end gives a byte, and drives it where it offers one.
abbrev pub has_odd_byte : List Row → Row → Bool
has_odd_byte rows row = has_parity (seen rows row)

-- The bytes of the message phases form messages, of which the first opens the connection; a message phase is left with
-- no message half sent; and no byte of data crosses while a synchronous data transfer request is open (6.6).
abbrev pub has_whole_messages : List Row → Row → Bool
has_whole_messages rows row = keeps_messages (seen rows row)

-- As many bytes of COMMAND cross as the command has, and bytes of data once it stands whole (7.2).
abbrev pub has_whole_command : List Row → Row → Bool
has_whole_command rows row = keeps_command (seen rows row)

-- The target frees the bus in a message phase, and not in a data phase (6.6).
abbrev pub frees_in_time : List Row → Row → Bool
frees_in_time rows row = implies (falls (bus rows).bsy (bus (row ∷ rows)).bsy) (not (is_data (bus rows)))

pub record KeepsBooks (rows : List Row) (row : Row) : Type 0 where
  pub byte : has_odd_byte rows row ≡ true
  pub messages : has_whole_messages rows row ≡ true
  pub command : has_whole_command rows row ≡ true
  pub freeing : frees_in_time rows row ≡ true

-- ---- the same of all rows

-- The row is made while a connection stands, and neither before it nor after it is RST true.
abbrev pub is_row_of_connection : List Row → Row → Bool
is_row_of_connection rows row = is_connected rows && not (bus (row ∷ rows)).rst

-- What such a row keeps of them.
abbrev pub KeepsBooksIn : List Row → Row → Type 0
KeepsBooksIn rows row = is_row_of_connection rows row ≡ true → KeepsBooks rows row

abbrev pub in_connections : (List Row → Row → Bool) → List Row → Bool
in_connections test [] = true
in_connections test (row ∷ rows) = in_connections test rows && implies (is_row_of_connection rows row) (test rows row)

abbrev pub have_odd_bytes : List Row → Bool
have_odd_bytes rows = in_connections has_odd_byte rows

abbrev pub have_whole_messages : List Row → Bool
have_whole_messages rows = in_connections has_whole_messages rows

abbrev pub have_whole_commands : List Row → Bool
have_whole_commands rows = in_connections has_whole_command rows

abbrev pub free_in_time : List Row → Bool
free_in_time rows = in_connections frees_in_time rows
