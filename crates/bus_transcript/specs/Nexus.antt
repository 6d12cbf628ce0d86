-- What the messages of a connection say of it: its unit and tag, its abort messages, and what it means that the target
-- then goes to BUS FREE (6.1.1, 6.6).
use Rattle.std.specs.Prelude.{ℕ, Bool, false, List, [], ◌∷◌, Option, Some, None, is_some, is_none, if◌then◌else◌}
use Rattle.msg_grammar.specs.declared.message.MsgOut.{MsgOut}
use Rattle.msg_grammar.specs.declared.message.MsgOut.TheVariants as to_target
use Rattle.msg_grammar.specs.declared.message.MsgIn.{MsgIn}
use Rattle.msg_grammar.specs.declared.message.MsgIn.TheVariants as to_initiator
use Rattle.bus_base.specs.declared.AbortKind.{AbortKind}
use Rattle.bus_base.specs.declared.AbortKind.TheVariants as aborts
use Rattle.bus_transcript.specs.declared.part.Part.{Part}
use Rattle.bus_transcript.specs.declared.part.Part.TheVariants.{Out, In, BrokenOff}
use Rattle.bus_transcript.specs.declared.summary.Departure.{Departure}
use Rattle.bus_transcript.specs.declared.summary.Departure.TheVariants.{Loss, Leave, Abortion}
use Rattle.bus_transcript.specs.declared.summary.Summary.{Summary}
use Rattle.msg_grammar.specs.Grammar.{is_abort}

-- ---- the unit and the tag that a message names

abbrev pub unit_out : MsgOut → Option ℕ
unit_out (to_target.Identify disc lun) = Some lun
unit_out _ = None

abbrev pub unit_in : MsgIn → Option ℕ
unit_in (to_initiator.Identify lun) = Some lun
unit_in _ = None

abbrev pub tag_out : MsgOut → Option ℕ
tag_out (to_target.SimpleTag tag) = Some tag
tag_out (to_target.HeadTag tag) = Some tag
tag_out (to_target.OrderedTag tag) = Some tag
tag_out _ = None

abbrev pub tag_in : MsgIn → Option ℕ
tag_in (to_initiator.SimpleTag tag) = Some tag
tag_in _ = None

-- ---- messages that end processes

-- ABORT TAG without a tag counts as ABORT.
abbrev pub tag_aborted : Option ℕ → AbortKind
tag_aborted None = aborts.All
tag_aborted (Some tag) = aborts.Tag tag

abbrev pub kind_of : MsgOut → Option ℕ → AbortKind
kind_of to_target.AbortTag tag = tag_aborted tag
kind_of to_target.ClearQueue tag = aborts.WholeQueue
kind_of to_target.DeviceReset tag = aborts.Device
kind_of _ tag = aborts.All

-- ---- message by message

-- Before any message.
abbrev pub no_summary : Summary
no_summary = record { unit = None; tag = None; awaits_tag = false; abort = None; departure = Loss }

-- A message of the end that names the nexus, which names this unit or this tag: the first IDENTIFY counts, and a tag as
-- the next message of that end.
abbrev pub named : Summary → Option ℕ → Option ℕ → Summary
named s unit tag =
    if is_none s.unit then record s { unit = unit; awaits_tag = is_some unit }
    else if s.awaits_tag then record s { tag = tag; awaits_tag = false }
    else s

-- The initiator names the nexus, in a connection that a reselection began the target.
abbrev pub named_out : Bool → Summary → MsgOut → Summary
named_out again s m = if again then s else named s (unit_out m) (tag_out m)

abbrev pub named_in : Bool → Summary → MsgIn → Summary
named_in again s m = if again then named s (unit_in m) (tag_in m) else s

abbrev pub last_abort : Option MsgOut → MsgOut → Option MsgOut
last_abort was m = if is_abort m then Some m else was

-- What BUS FREE means after this message.
abbrev pub departure_out : MsgOut → Departure
departure_out m = if is_abort m then Abortion else Loss

abbrev pub departure_in : MsgIn → Departure
departure_in to_initiator.CommandComplete = Leave
departure_in to_initiator.Disconnect = Leave
departure_in _ = Loss

abbrev pub summary_out : Bool → Summary → MsgOut → Summary
summary_out again s m = record (named_out again s m) { abort = last_abort s.abort m; departure = departure_out m }

abbrev pub summary_in : Bool → Summary → MsgIn → Summary
summary_in again s m = record (named_in again s m) { departure = departure_in m }

abbrev pub summary_after : Bool → Summary → Part → Summary
summary_after again s (Out m) = summary_out again s m
summary_after again s (In m) = summary_in again s m
summary_after again s BrokenOff = record s { departure = Loss }
summary_after again s _ = s

-- What these parts say, the oldest first, after this.
abbrev pub summary_of : Bool → Summary → List Part → Summary
summary_of again s [] = s
summary_of again s (part ∷ parts) = summary_of again (summary_after again s part) parts
