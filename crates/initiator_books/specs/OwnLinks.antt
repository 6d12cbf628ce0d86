-- What an initiator knows of its own connection: to which process or abort it belongs, and what its last message was.
use Rattle.std.specs.Prelude.{ℕ, ◌≡◌, Bool, true, false, not, ◌&&◌, ◌==◌, List, [], ◌∷◌, Option, Some, None, ⊤}
use Rattle.std.specs.Prelude.{if◌then◌else◌}
use Rattle.bus_base.specs.declared.ProcId.{ProcId}
use Rattle.bus_trace.specs.declared.connection.Connection.{Connection}
use Rattle.msg_grammar.specs.declared.message.MsgOut.{MsgOut}
use Rattle.msg_grammar.specs.declared.message.MsgOut.TheVariants as to_target
use Rattle.msg_grammar.specs.declared.message.MsgIn.{MsgIn}
use Rattle.msg_grammar.specs.declared.message.MsgIn.TheVariants as to_initiator
use Rattle.story_model.specs.Links as links
use Rattle.story_model.specs.Links.{Link}
use Rattle.story_model.specs.CarriedBytes.{CarriedBytes}
use Rattle.initiator_books.specs.declared.mine.Mine.{Mine}
use Rattle.initiator_books.specs.declared.mine.OwnItem.{OwnItem}
use Rattle.initiator_books.specs.declared.mine.OwnItem.TheVariants as own
use Rattle.initiator_books.specs.declared.held.HeldPair.{HeldPair}
use Rattle.initiator_books.specs.declared.own_link.LastMessage.{LastMessage}
use Rattle.initiator_books.specs.declared.own_link.LastMessage.TheVariants as latest
use Rattle.initiator_books.specs.declared.own_link.Undo.{Undo}
use Rattle.initiator_books.specs.declared.own_link.OwnLink.{OwnLink}
use Rattle.initiator_books.specs.Books.{item_if}
use Rattle.initiator_books.specs.Mines.{is_open_mine, is_at_unit_of}
use Rattle.initiator_books.specs.HeldPointers.{held_at, with_held, IsHeldOf}
use Rattle.array_model.specs.Order.{same_number, tag_number}

-- A command or an automatic REQUEST SENSE; an abort is none.
abbrev pub process_in : Option OwnItem → Option ProcId
process_in None = None
process_in (Some (own.Command n)) = Some (record { command = n; sense = false })
process_in (Some (own.Sense n)) = Some (record { command = n; sense = true })
process_in (Some (own.Abort n)) = None

-- ---- the process that a target names

abbrev pub is_open_sense_of : Mine → Bool
is_open_sense_of m = m.sense_sent && not m.sense_over

-- The first of its own that is open, of this target, unit and tag.
abbrev pub named_in : List Mine → ℕ → ℕ → Option ℕ → Option OwnItem
named_in [] target unit tag = None
named_in (m ∷ mines) target unit tag =
    if is_at_unit_of m target unit && is_open_mine m && same_number (tag_number m.tag) tag
    then Some (own.Command m.number)
    else if is_at_unit_of m target unit && is_open_sense_of m && same_number None tag then Some (own.Sense m.number)
    else named_in mines target unit tag

abbrev pub link_with_name : List Mine → OwnLink → MsgIn → OwnLink
link_with_name mines l (to_initiator.Identify lun) = record l { unit = lun; item = named_in mines l.target lun None }
link_with_name mines l (to_initiator.SimpleTag n) = record l { item = named_in mines l.target l.unit (Some n) }
link_with_name mines l _ = l

-- ---- the last message

abbrev pub last_after_out : MsgOut → OwnLink → LastMessage
last_after_out to_target.Abort l = latest.Abortive
last_after_out to_target.AbortTag l = latest.Abortive
last_after_out to_target.ClearQueue l = latest.Abortive
last_after_out to_target.DeviceReset l = latest.Abortive
last_after_out to_target.ParityError l = l.before
last_after_out _ l = latest.Plain

abbrev pub last_after_in : MsgIn → LastMessage
last_after_in to_initiator.CommandComplete = latest.Complete
last_after_in to_initiator.Disconnect = latest.Disconnect
last_after_in _ = latest.Plain

abbrev pub new_link : ℕ → Option OwnItem → OwnLink
new_link target item =
    record { target = target; item = item; unit = 0; last = latest.Plain; before = latest.Plain; undo = None }

-- What was held before a message, of the process to which the connection belonged; MESSAGE PARITY ERROR brings it back
-- (6.6.13).
abbrev pub undo_of : List HeldPair → Option ProcId → Option Undo
undo_of all None = None
undo_of all (Some id) = Some (record { id = id; held = held_at all id })

abbrev pub undone : List HeldPair → Option Undo → List HeldPair
undone all None = all
undone all (Some u) = with_held all u.id u.held

-- ---- what the story knows of it

abbrev pub last_of : LastMessage → links.LastMessage
last_of latest.Plain = links.plain
last_of latest.Complete = links.complete
last_of latest.Disconnect = links.disconnect
last_of latest.Abortive = links.abortive

pub record IsUndo (k : CarriedBytes) (u : Undo) : Type 0 where
  pub id_is : k.id ≡ u.id
  pub held_is : IsHeldOf k u.held

abbrev pub IsUndoIf : Option CarriedBytes → Option Undo → Type 0
IsUndoIf None None = ⊤
IsUndoIf None (Some u) = ⊥
IsUndoIf (Some k) None = ⊥
IsUndoIf (Some k) (Some u) = IsUndo k u

pub record IsLinkOf (dev : ℕ) (l : Link) (o : OwnLink) : Type 0 where
  pub initiator_is : l.initiator ≡ dev
  pub target_is : o.target ≡ l.target
  pub item_is : item_if o.item ≡ l.item
  pub unit_is : o.unit ≡ l.unit
  pub last_is : last_of o.last ≡ l.last
  pub before_is : last_of o.before ≡ l.before
  pub undo_is : IsUndoIf l.undo o.undo

abbrev pub IsLinkIf : ℕ → Option Link → Option OwnLink → Type 0
IsLinkIf dev None None = ⊤
IsLinkIf dev None (Some o) = ⊥
IsLinkIf dev (Some l) None = ⊥
IsLinkIf dev (Some l) (Some o) = IsLinkOf dev l o

-- That of a connection of its own; of one of others it knows nothing.
abbrev pub own_link : ℕ → Option Connection → Option Link → Option Link
own_link dev None l = None
own_link dev (Some n) l = if n.initiator == dev then l else None
