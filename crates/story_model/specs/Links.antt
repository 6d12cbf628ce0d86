-- The connection that stands: to which process or abort it belongs, and what its last message was.
use Rattle.std.specs.Prelude.{ℕ, ◌+◌, Bool, not, ◌&&◌, ◌==◌, List, [], ◌∷◌, Option, Some, None, if◌then◌else◌}
use Rattle.array_model.specs.scenario.specs.declared.value.CmdDef.{CmdDef}
use Rattle.bus_phases.specs.msg_grammar.specs.declared.message.MsgOut.{MsgOut}
use Rattle.bus_phases.specs.msg_grammar.specs.declared.message.MsgOut.TheVariants as to_target
use Rattle.bus_phases.specs.msg_grammar.specs.declared.message.MsgIn.{MsgIn}
use Rattle.bus_phases.specs.msg_grammar.specs.declared.message.MsgIn.TheVariants as to_initiator
use Rattle.bus_phases.specs.bus_trace.specs.declared.connection.Connection.{Connection}
use Rattle.story_model.specs.Items.{Item, Sent, has_item, command_item, sense_item, is_open}
use Rattle.story_model.specs.CarriedBytes.{CarriedBytes}
use Rattle.array_model.specs.Order.{same_number, tag_number}

-- The last message, as far as it tells how the connection ends.
pub data LastMessage : Type 0 where
  plain : LastMessage
  complete : LastMessage
  disconnect : LastMessage
  abortive : LastMessage

pub record Link : Type 0 where
  pub initiator : ℕ
  pub target : ℕ
  pub item : Option Item
  -- the unit that the target has named
  pub unit : ℕ
  pub last : LastMessage
  -- what held before the last MESSAGE IN message
  pub before : LastMessage
  pub undo : Option CarriedBytes

abbrev pub link_of : Connection → Option Item → Link
link_of n item = record {
  initiator = n.initiator;
  target = n.target;
  item = item;
  unit = 0;
  last = plain;
  before = plain;
  undo = None;
}

abbrev pub last_out : MsgOut → Link → LastMessage
last_out to_target.Abort l = abortive
last_out to_target.AbortTag l = abortive
last_out to_target.ClearQueue l = abortive
last_out to_target.DeviceReset l = abortive
last_out to_target.ParityError l = l.before
last_out _ l = plain

abbrev pub last_in : MsgIn → LastMessage
last_in to_initiator.CommandComplete = complete
last_in to_initiator.Disconnect = disconnect
last_in _ = plain

-- ---- the process that a target names: IDENTIFY, and for a tagged one SIMPLE QUEUE TAG

abbrev pub is_of_nexus : CmdDef → ℕ → ℕ → ℕ → Bool
is_of_nexus c initiator target unit = c.host == initiator && c.target == target && c.unit == unit

abbrev pub is_open_sense : Sent → ℕ → Bool
is_open_sense b n = has_item b.sent (sense_item n) && not (has_item b.over (sense_item n))

-- The open process of this pair with this unit and tag; an automatic REQUEST SENSE is untagged.
abbrev pub named_item_from : Sent → ℕ → ℕ → ℕ → Option ℕ → ℕ → List CmdDef → Option Item
named_item_from b initiator target unit tag n [] = None
named_item_from b initiator target unit tag n (c ∷ commands) =
    if is_of_nexus c initiator target unit && is_open b n && same_number (tag_number c.tag) tag
    then Some (command_item n)
    else if is_of_nexus c initiator target unit && is_open_sense b n && same_number None tag then Some (sense_item n)
    else named_item_from b initiator target unit tag (n + 1) commands

abbrev pub named_item : Sent → List CmdDef → Link → Option ℕ → Option Item
named_item b commands l tag = named_item_from b l.initiator l.target l.unit tag 1 commands

abbrev pub link_after_name : Sent → List CmdDef → Link → MsgIn → Link
link_after_name b commands l (to_initiator.Identify lun) =
    record l { unit = lun; item = named_item b commands (record l { unit = lun }) None }
link_after_name b commands l (to_initiator.SimpleTag n) = record l { item = named_item b commands l (Some n) }
link_after_name b commands l _ = l
