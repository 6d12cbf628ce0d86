use Rattle.std.proofs.Common.{◌∙◌, ◌==◌, sym}
use Rattle.std.proofs.lemmas.Bool.{eqb-true}
use Rattle.cdb_codec.specs.declared.status.TheConstants.{GOOD}
use Rattle.scenario.specs.Lookups.{is_tape}
use Rattle.array_model.proofs.NamedBlocks.{serial_is}
use Rattle.array_model.specs.Processes.{process_of}
use Rattle.array_model.specs.ArrayHistory.{reply_in}
use Rattle.array_model.specs.Seats.{in_hold, nexus_at}
use Rattle.array_model.specs.Units.{unit_state_at}
use Rattle.due_model.specs.LastingState.{progress_in}
use Rattle.due_model.specs.RunState.{array_of}
use Rattle.due_model.specs.RunSteps.{run_state}
use Rattle.due_model.specs.Tasks.{reply_now, room_of, size_of}
use Rattle.disk_unit.specs.Plans.{plan_of}
use Rattle.disk_target.specs.Bytes.{status_in}
use Rattle.disk_target.proofs.Telling.{status_told}
use Rattle.disk_target.proofs.known.state_of.Goals as goal

pub returns-clause-state : goal.returns-clause-state
returns-clause-state c = λ s rows d p h few is id target unit from reply.
    let k = run_state s rows in
    let a = array_of s k in
    let units = target ∙ sym h.units_dev in
    let counts = c.counts-counts.ensures.exact s rows p h.progress_is
    ((λ i. process_of s (c.id.ensures i)) ∙ is) (target ∙ sym h.progress_dev) few in
    record {
      in_hold = c.holds.ensures s a k.current_since h.units_are
          ∙ (λ i. in_hold a.holds (nexus_at (sym units i) (sym unit i) (sym from i)));
      runs = counts.runs ∙ (λ i. (progress_in k.progress ((c.id.ensures ∙ id) i)).runs);
      recoveries = counts.recoveries ∙ (λ i. (progress_in k.progress ((c.id.ensures ∙ id) i)).recoveries);
      serial = c.is_serial.ensures s a k.current_since h.units_are ∙ (λ i. is_tape s (sym units i) (sym unit i))
          ∙ sym (serial_is s p ((λ i. process_of s (sym id i)) ∙ is));
      size = c.block_size-size.ensures s a k.current_since h.units_are
          ∙ (λ i. size_of (unit_state_at a.units (sym units i) (sym unit i)));
      room = c.room.ensures s a k.current_since h.sound h.units_are
          ∙ (λ i. room_of a (unit_state_at a.units (sym units i) (sym unit i)));
      reply = c.status_in.ensures ∙ (λ i. status_in (reply i)) ∙ status_told (reply_in a.replies p.id);
    }

pub returns-clause-outlook : goal.returns-clause-outlook
returns-clause-outlook c = λ s rows d p h host target unit from cdb is.
    let k = run_state s rows in
    let a = array_of s k in
    let units = target ∙ sym h.units_dev in
    let block = cdb ∙ sym c.block.ensures.value in
    let plan = c.plan-plan.ensures.array s a k.current_since p h.units_are host units unit from block in
    record {
      plan = plan ∙ (λ i. plan_of (reply_now a p) (sym plan i).out_len);
      sent = λ writes good.
          c.plan-plan.ensures.taken s a k.current_since p h.units_are host units unit from block is writes
          (eqb-true (reply_now a p).status GOOD ((λ i. (sym plan i).status == GOOD) ∙ good));
    }
