-- What one end keeps of its agreement with another, and what each event does to it (6.6.21).
use Rattle.std.specs.Prelude.{Bool, true, false, ◌&&◌, ◌==◌, Option, Some, None, nat_lt, if◌then◌else◌}
use Rattle.bus_trace.specs.declared.agreements.Agreement.{Agreement}
use Rattle.bus_trace.specs.declared.agreements.TheConstants.{UNLIMITED_OFFSET}
use Rattle.msg_grammar.specs.declared.message.MsgOut.{MsgOut}
use Rattle.msg_grammar.specs.declared.message.MsgOut.TheVariants as to_target
use Rattle.msg_grammar.specs.declared.message.MsgIn.{MsgIn}
use Rattle.msg_grammar.specs.declared.message.MsgIn.TheVariants as to_initiator
use Rattle.dialogue_model.specs.bus_phases.specs.Dialogue.{asynchronous}
use Rattle.dialogue_model.specs.Words.{agreement_answer}

pub record Negotiation : Type 0 where
  -- what it offers itself
  pub own : Agreement
  -- what the two have agreed on
  pub agreed : Agreement
  -- whether it may still offer: nothing was settled or cleared
  pub may_offer : Bool

abbrev pub unsettled : Agreement → Negotiation
unsettled own = record { own = own; agreed = asynchronous; may_offer = true }

-- ---- requests

abbrev pub offers : Negotiation → Bool
offers n = n.may_offer && nat_lt 0 n.own.period

abbrev pub offer_out : Negotiation → Option MsgOut
offer_out n = if offers n then Some (to_target.Sdtr n.own) else None

abbrev pub offer_in : Negotiation → Option MsgIn
offer_in n = if offers n then Some (to_initiator.Sdtr n.own) else None

-- ---- answers

-- The answer to a request; to one of unlimited offset there is none but MESSAGE REJECT.
abbrev pub answer_to : Agreement → Agreement → Option Agreement
answer_to own heard =
    if heard.offset == UNLIMITED_OFFSET then None else Some (agreement_answer own.period own.offset heard)

-- How a target says it.
abbrev pub reply_by : Option Agreement → MsgIn
reply_by None = to_initiator.Reject
reply_by (Some a) = to_initiator.Sdtr a

-- What the two ends agree on after this answer, or after a rejection.
abbrev pub agreed_by : Option Agreement → Agreement
agreed_by None = asynchronous
agreed_by (Some a) = a

-- ---- what is kept

abbrev pub settled : Negotiation → Option Agreement → Negotiation
settled n heard = record n { agreed = agreed_by heard; may_offer = false }

abbrev pub cleared : Negotiation → Negotiation
cleared n = record n { agreed = asynchronous; may_offer = false }

abbrev pub renewed : Negotiation → Negotiation
renewed n = record n { agreed = asynchronous; may_offer = true }
