-- Until a byte has crossed in a connection, the next one begins an IDENTIFY: the opening of the initiator after a
-- selection, the names of the target after a reselection (6.1.3, 6.1.4, 6.6.7).
use Rattle.std.specs.Prelude.{ℕ, ◌≡◌, ◌<◌, true, false, List, [], ◌∷◌, Some}
use Rattle.due_model.specs.bus_trace.specs.LineSet.{LineSet}
use Rattle.due_model.specs.bus_trace.specs.declared.connection.Connection.{Connection}
use Rattle.due_model.specs.bus_trace.specs.Phases.{is_message_out, is_message_in}
use Rattle.due_model.specs.bus_lines.specs.Handshakes.{Handshakes}
use Rattle.due_model.specs.bus_phases.specs.declared.dialogue.Dialogue.{Dialogue}
use Rattle.due_model.specs.bus_phases.specs.Reading.{reading_out}
use Rattle.due_model.specs.bus_rules.specs.Messages.{is_opening}
use Rattle.due_model.specs.msg_grammar.specs.declared.message.MsgIn.TheVariants as to_initiator
use Rattle.due_model.specs.msg_grammar.specs.Messages.{got_out}
use Rattle.due_model.specs.dialogue_model.specs.Exchange.{Exchange}
use Rattle.due_model.specs.RunState.{RunState, bus_of}

-- The words begin with a message that may open a connection.
pub record OpensConnection (words : List ℕ) : Type 0 where
  pub first : ℕ
  pub rest : List ℕ
  pub words_are : words ≡ first ∷ rest
  pub opens : is_opening (reading_out (got_out (first ∷ []))) ≡ true

pub data IsUnopened (n : Connection) (x : Exchange) (d : Dialogue) (h : Handshakes) (b : LineSet) : Type 0 where
  before_all : n.reselected ≡ false → x.begun ≡ false → OpensConnection x.speech.words → IsUnopened n x d h b
  in_opening : n.reselected ≡ false → x.begun ≡ true → is_message_out b ≡ true → x.speech.place ≡ 0 → d.is_last ≡ false
      → OpensConnection x.speech.words → IsUnopened n x d h b
  in_names : n.reselected ≡ true → x.begun ≡ true → is_message_in b ≡ true → h.requests ≡ 0
      → (lun : ℕ) → x.plan.messages.first ≡ Some (to_initiator.Identify lun) → lun < 8 → IsUnopened n x d h b

abbrev pub OpensBy : Connection → Exchange → Dialogue → Handshakes → LineSet → Type 0
OpensBy n x d h b = d.begun ≡ false → IsUnopened n x d h b

abbrev pub Opens : RunState → Connection → Type 0
Opens k n = OpensBy n k.exchange k.story.bus_state.dialogue k.handshakes (bus_of k)
