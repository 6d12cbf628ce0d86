-- What a listener makes of the bytes of messages, one after the other (6.6).
use Rattle.std.specs.Prelude.{ℕ, Bool, not, ◌&&◌, List, [], ◌∷◌, ◌++◌}
use Rattle.due_model.specs.msg_grammar.specs.Messages.{got_out, got_in}
use Rattle.due_model.specs.bus_phases.specs.Half.{left_of, is_nil}
use Rattle.due_model.specs.bus_phases.specs.Reading.{reading_out, reading_in}
use Rattle.due_model.specs.bus_rules.specs.Messages.{is_unknown}
use Rattle.due_model.specs.bus_phases.specs.declared.dialogue.Dialogue.{Dialogue}
use Rattle.due_model.specs.bus_phases.specs.Dialogue.{fresh_bytes}
use Rattle.due_model.specs.story_model.specs.BusState.{whole_out}
use Rattle.due_model.specs.dialogue_model.specs.declared.exchange.Said.{Said}
use Rattle.due_model.specs.dialogue_model.specs.declared.exchange.Plan.{Plan}
use Rattle.due_model.specs.dialogue_model.specs.Exchange.{nothing_heard, said_with_if, plan_anew_if}

-- ---- the target: the messages that it heard whole, and the bytes of one that it has heard half

pub record Understanding : Type 0 where
  pub said : Said
  pub half : List ℕ

abbrev pub nothing_understood : Understanding
nothing_understood = record { said = nothing_heard; half = [] }

abbrev pub understood_byte : Understanding → ℕ → Understanding
understood_byte u b = record {
  said = said_with_if (whole_out (got_out (u.half ++ b ∷ []))) u.said;
  half = left_of (got_out (u.half ++ b ∷ [])) (u.half ++ b ∷ []);
}

abbrev pub understood : Understanding → List ℕ → Understanding
understood u [] = u
understood u (b ∷ bytes) = understood (understood_byte u b) bytes

-- The bytes form whole messages: none of them makes an unknown one, and none is half heard at the end.
abbrev pub form_messages : Understanding → List ℕ → Bool
form_messages u [] = is_nil u.half
form_messages u (b ∷ bytes) =
    not (is_unknown (reading_out (got_out (u.half ++ b ∷ [])))) && form_messages (understood_byte u b) bytes

-- What it has heard in MESSAGE OUT; and what of it counts with the next byte, which may begin anew (6.6.10).
abbrev pub understanding : Plan → Dialogue → Understanding
understanding p d = record { said = p.said; half = d.fresh }

abbrev pub understanding_anew : Plan → Dialogue → Understanding
understanding_anew p d = record { said = (plan_anew_if d.is_last p).said; half = fresh_bytes d }

-- ---- the initiator: the bytes of a message that it has heard half

abbrev pub half_after : List ℕ → List ℕ → List ℕ
half_after half [] = half
half_after half (b ∷ bytes) = half_after (left_of (got_in (half ++ b ∷ [])) (half ++ b ∷ [])) bytes

abbrev pub form_messages_in : List ℕ → List ℕ → Bool
form_messages_in half [] = is_nil half
form_messages_in half (b ∷ bytes) = not (is_unknown (reading_in (got_in (half ++ b ∷ []))))
    && form_messages_in (left_of (got_in (half ++ b ∷ [])) (half ++ b ∷ [])) bytes
