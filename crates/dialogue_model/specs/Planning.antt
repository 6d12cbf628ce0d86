-- What the target of a connection plans in it, row by row.
use Rattle.std.specs.Prelude.{◌-◌, Bool, true, false, not, ◌&&◌, if◌then◌else◌}
use Rattle.story_model.specs.bus_trace.specs.LineSet.{LineSet}
use Rattle.story_model.specs.bus_trace.specs.Phases.{is_message_out, is_message_in, changes_phase}
use Rattle.dialogue_model.specs.declared.exchange.Hearing.{Hearing}
use Rattle.dialogue_model.specs.declared.exchange.Cause.{Cause}
use Rattle.dialogue_model.specs.declared.exchange.Cause.TheVariants as causes
use Rattle.dialogue_model.specs.declared.exchange.Next.TheVariants as nexts
use Rattle.dialogue_model.specs.declared.exchange.Messages.{Messages}
use Rattle.dialogue_model.specs.declared.exchange.Plan.{Plan}
use Rattle.dialogue_model.specs.declared.exchange.Leaving.{Leaving}
use Rattle.dialogue_model.specs.Exchange.{no_plan, plan_anew, plan_after_message, struck_plan, from_byte}

-- A connection begins: after a reselection with the messages that name the process.
abbrev pub first_plan : Bool → Bool → Messages → Plan
first_plan true negotiates names = record no_plan { messages = names; next = nexts.GoOn }
first_plan false negotiates names = record no_plan { negotiates = negotiates }

abbrev pub cause_after : LineSet → Cause
cause_after bus = if is_message_in bus then causes.InMessage else if bus.cd then causes.InStatus else causes.InData

-- MESSAGE OUT begins. Of refused messages the one that was struck, and those after it, are left.
abbrev pub plan_in_message_out : Hearing → Plan → Plan
plan_in_message_out w p = record (plan_anew p) {
  cause = cause_after w.change.before;
  messages =
      if is_message_in w.change.before then from_byte p.messages (w.offered - 1) else p.messages;
}

abbrev pub plan_in_phase : Hearing → Leaving → Plan → Plan
plan_in_phase w l p =
    if not (is_message_out w.change.after) then record (plan_anew p) { messages = l.messages; next = l.next }
    else if w.begun then plan_in_message_out w p
    else plan_anew p

abbrev pub plan_with_byte : Hearing → Plan → Plan
plan_with_byte w p = if is_message_out w.change.before then plan_after_message p w.is_last w.out else p

abbrev pub plan_after : Hearing → Leaving → Plan → Plan
plan_after w l p =
    if changes_phase w.change then plan_in_phase w l p
    else if w.crosses then plan_with_byte w p
    else if w.fault && not w.change.before.io then struck_plan p
    else p
