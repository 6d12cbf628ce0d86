-- ATN in a row of a connection: the initiator raises it as it answers a byte of MESSAGE IN, and the target leaves the
-- phase then (6.1.5.1, 6.2.1).
use Rattle.std.specs.Prelude.{◌≡◌, ◌⊎◌, Bool, true, false, ◌||◌, ◌==◌, None, is_some}
use Rattle.due_model.specs.bus_trace.specs.declared.changes.Change.{Change}
use Rattle.due_model.specs.bus_trace.specs.declared.connection.Connection.{Connection}
use Rattle.due_model.specs.bus_trace.specs.Changes.{implies}
use Rattle.due_model.specs.bus_trace.specs.Phases.{changes_phase, is_message_in}
use Rattle.due_model.specs.bus_trace.specs.Terms.{receiver_in}
use Rattle.due_model.specs.bus_phases.specs.declared.dialogue.Dialogue.{Dialogue}
use Rattle.due_model.specs.bus_phases.specs.Dialogue.{is_of_other}
use Rattle.due_model.specs.bus_lines.specs.Handshakes.{Handshakes}
use Rattle.row_laws.specs.Offers.{offer_now}
use Rattle.row_laws.specs.ItemTalks.{awaits}
use Rattle.due_model.specs.bus_phases.specs.declared.words.End.TheVariants as ends

-- A row of MESSAGE IN: it changes other lines; or REQ rises, for the first byte or with ATN false; or the initiator
-- answers.
pub data MessageRow (h : Handshakes) (d : Dialogue) (n : Connection) (c : Change) : Type 0 where
  keeps : receiver_in n c ≡ None → c.after.atn ≡ c.before.atn
      → (awaits c.before ≡ true → awaits c.after ≡ true) → MessageRow h d n c
  asks : is_some (receiver_in n c) ≡ true → c.after.atn ≡ c.before.atn
      → ((h.requests == 0) ≡ true) ⊎ (c.before.atn ≡ false) → awaits c.after ≡ true → MessageRow h d n c
  answers : receiver_in n c ≡ None → (h.requests == 0) ≡ false
      → c.after.atn ≡ ((h.struck || is_of_other (offer_now d) ends.Initiator) || c.before.atn) → MessageRow h d n c

-- As a phase that has begun is left REQ is false, and ATN stays. ATN is true in MESSAGE OUT and in phases to the
-- initiator alone.
pub record Attention (h : Handshakes) (d : Dialogue) (begun : Bool) (n : Connection) (c : Change) : Type 0 where
  pub into : changes_phase c ≡ false → is_message_in c.before ≡ true → MessageRow h d n c
  pub turns : changes_phase c ≡ true → begun ≡ true → (c.after.atn ≡ c.before.atn) × (c.before.req ≡ false)
  pub low : begun ≡ true → implies c.before.atn (c.before.io || c.before.msg) ≡ true
