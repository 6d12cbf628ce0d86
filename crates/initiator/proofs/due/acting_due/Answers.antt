use Rattle.std.proofs.Common.{◌^◌, ◌∙◌, refl, sym, subst, Some}
use Rattle.bus_trace.specs.Trace.{bus}
use Rattle.bus_lines.specs.BusView.{BusViewValue}
use Rattle.bus_lines.specs.Handshakes.{handshakes}
use Rattle.bus_lines.specs.Timely.{IsTimely}
use Rattle.reaction_model.specs.Ends as hand
use Rattle.reaction_model.specs.Sight.{sight}
use Rattle.due_model.specs.dialogue_model.specs.Hearing.{begun}
use Rattle.initiator_books.specs.scsi_device.specs.Told.{Told, told, pace_of}
use Rattle.initiator.specs.States.{InitiatorState, state_known}
use Rattle.initiator.specs.Dues.{answering_of_host, drives_byte, myself_by, with_byte_if}
use Rattle.initiator.proofs.Unasked.{any_byte, any_stage}
use Rattle.initiator.proofs.due.acting_due.Goals as goal

pub initiator_due-requires-clause-seen : goal.initiator_due-requires-clause-seen
initiator_due-requires-clause-seen c = c.lines_seen.ensures.timely (2 ^ 63)
    (subst (λ (v : BusViewValue). IsTimely (2 ^ 63) v) (sym c.view-view.ensures.value) c.requires.timely)

pub returns : goal.returns
returns c = λ rows o mine.
    let v = c.view-view.ensures.trace rows o in
    let h = c.args.host.now in
    let t : Told = told rows h.dev in
    let i : InitiatorState = state_known c.args.known.now in
    let a = answering_of_host t i in
    let pace = c.pace-pace.ensures.exact rows h.dev (Some h) o refl in
    let given = c.answering.ensures.exact rows h.dev o
    ∙ (λ j. with_byte_if (drives_byte (mine j).own (bus rows) (pace j).pulsed) a) in
    c.initiator_due.ensures ∙ (λ j. hand.initiator_due (c.begun.ensures rows o j)
    (c.lines_seen.ensures.trace rows v j) (c.handshakes.ensures.trace rows v j) (mine j) (pace j) (given j))
    ∙ any_stage (begun rows) (sight rows) (handshakes rows) (myself_by h t i) (pace_of t (Some h))
    (with_byte_if (drives_byte t.lines (bus rows) (pace_of t (Some h)).pulsed) a)
    ∙ any_byte (begun rows) (sight rows) (handshakes rows) (myself_by h t i) (pace_of t (Some h)) a
