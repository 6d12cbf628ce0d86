-- The items of a connection: its parts with the name of its process, by the pointers (6.4, 6.6.19, 6.6.20).
use Rattle.std.specs.Prelude.{ℕ, Bool, true, false, not, ◌&&◌, ◌||◌, ◌==◌, List, [], ◌∷◌, ◌++◌, length, Some}
use Rattle.std.specs.Prelude.{if◌then◌else◌}
use Rattle.msg_grammar.specs.declared.message.MsgIn.{MsgIn}
use Rattle.msg_grammar.specs.declared.message.MsgIn.TheVariants as to_initiator
use Rattle.cdb_codec.specs.Cdb.{has_group_len}
use Rattle.bus_transcript.specs.declared.item.Item.{Item}
use Rattle.bus_transcript.specs.declared.item.Item.TheVariants as items
use Rattle.bus_transcript.specs.declared.part.Part.{Part}
use Rattle.bus_transcript.specs.declared.part.Part.TheVariants.{Out, In, BrokenOff, Command, Data, StatusPhase, Status}
use Rattle.bus_transcript.specs.declared.part.Part.TheVariants.{Completion}
use Rattle.bus_transcript.specs.declared.process.Process.{Process}
use Rattle.bus_transcript.specs.Numbers.{advanced}

pub record AccountValue : Type 0 where
  pub process : Process
  -- the active data pointer, and whether the status pointer is 0
  pub active : ℕ
  pub status_first : Bool
  -- the bytes of COMMAND since the pointers were last restored, and whether a fault struck one of them
  pub block : List ℕ
  pub struck : Bool
  -- the items so far, the oldest first
  pub items : List Item

-- A connection of this process begins: the active pointers are the saved ones.
abbrev pub account_of : Process → List Item → AccountValue
account_of p items =
    record { process = p; active = p.saved; status_first = true; block = []; struck = false; items = items }

abbrev pub with_item : AccountValue → Item → AccountValue
with_item a item = record a { items = a.items ++ item ∷ [] }

-- ---- COMMAND, and the arrival of the command (6.1.6, 7.8)

abbrev pub with_block : AccountValue → List ℕ → Bool → AccountValue
with_block a bytes struck = record a { block = a.block ++ bytes; struck = a.struck || struck }

-- No item where no byte has crossed.
abbrev pub with_cdb : AccountValue → List ℕ → AccountValue
with_cdb a [] = a
with_cdb a (b ∷ bytes) = with_item a (items.Cdb (b ∷ bytes))

-- The command block stands whole since the last restore, and no fault struck a byte of it.
abbrev pub is_whole : List ℕ → Bool → Bool
is_whole block struck = not (length block == 0) && has_group_len block && not struck

abbrev pub arrived : AccountValue → Bool → AccountValue
arrived a left = if left && is_whole a.block a.struck then with_item a (items.Arrive a.process.name) else a

abbrev pub after_command : AccountValue → List ℕ → Bool → Bool → AccountValue
after_command a bytes struck left = arrived (with_cdb (with_block a bytes struck) bytes) left

-- ---- the other phases

abbrev pub after_data : AccountValue → Bool → List ℕ → AccountValue
after_data a out bytes =
    record (with_item a (items.Payload out a.active bytes)) { active = advanced a.active (length bytes) }

-- The first STATUS phase of the process.
abbrev pub after_status_phase : AccountValue → AccountValue
after_status_phase a =
    if a.process.shown then a else record (with_item a (items.Ready a.process.name)) {
      process = record a.process { shown = true };
    }

-- A byte of STATUS is the status of the process where the status pointer is 0.
abbrev pub after_status : AccountValue → ℕ → AccountValue
after_status a byte = record (with_item a (items.Status byte)) {
  process = (if a.status_first then record a.process { status = Some byte } else a.process);
  status_first = false;
}

-- ---- messages

abbrev pub restored : AccountValue → AccountValue
restored a = record a { active = a.process.saved; status_first = true; block = []; struck = false }

abbrev pub after_in : AccountValue → MsgIn → AccountValue
after_in a to_initiator.SavePointer = record a { process = record a.process { saved = a.active } }
after_in a to_initiator.RestorePointers = restored a
after_in a _ = a

abbrev pub account_after : AccountValue → Part → AccountValue
account_after a (Out m) = with_item a (items.Out m)
account_after a (In m) = after_in (with_item a (items.In m)) m
account_after a BrokenOff = a
account_after a (Command bytes struck left) = after_command a bytes struck left
account_after a (Data out bytes) = after_data a out bytes
account_after a StatusPhase = after_status_phase a
account_after a (Status byte) = after_status a byte
account_after a Completion = with_item a (items.End a.process.name a.process.status)

-- These parts, the oldest first.
abbrev pub account_after_all : AccountValue → List Part → AccountValue
account_after_all a [] = a
account_after_all a (part ∷ parts) = account_after_all (account_after a part) parts
