use Rattle.std.proofs.Common.{ℕ, ◌≡◌, ◌<◌, ◌+◌, ◌∙◌, List, Some, None, drop, length, sym, ap, subst, arith}
use Rattle.std.specs.Prelude.{slice_index_or}
use Rattle.std.specs.List.{AllByRecursion}
use Rattle.std.proofs.lemmas.Bool.{and_parts}
use Rattle.scenario.specs.declared.value.CmdDef.{CmdDef}
use Rattle.due_model.specs.RunSteps.{run_state}
use Rattle.array_model.specs.Processes.{command_at}
use Rattle.delivery_laws.specs.scsi_device.specs.Lines.{IsCommandLine}
use Rattle.initiator.specs.Received.{undoes_no_byte}
use Rattle.bus_engine.specs.Answers.{are_answered_from}
use Rattle.bus_engine.specs.Over.{IsPlaceOver}
use Rattle.bus_engine.proofs.Items.{all_drop}
use Rattle.bus_engine.proofs.Replies.{asked_next, command_is}
use Rattle.bus_engine.proofs.finishing.replies.Goals as goal
use Rattle.bus_base.proofs.Tests.{item_next}

pub loop-index-preserved : goal.loop-index-preserved
loop-index-preserved c =
    let i = c.loop-index.invariant in
    let n = c.loop-index.index in
    let commands = c.args.commands.now in
    let x = c.index-commands-index.result in
    let rest = drop (c.loop-index.index + 1) c.args.commands.now in
    let next = item_next n commands x c.loop-index-test.true c.index-commands-index.is in
    let hosts = subst (λ (l : List CmdDef). AllByRecursion (λ (d : CmdDef). d.host < 8) l) next i.hosts in
    record {
      count = omega (arith, c.in_ok-push.ensures.len, i.count);
      hosts = hosts.1;
      over = λ s rows h. c.outcome_at-outcome.ensures.over s rows (i.over s rows h);
      told = λ s rows f e h a.
          let lines = subst (λ (l : List CmdDef). AllByRecursion (λ (d : CmdDef). IsCommandLine s d) l) next
          (all_drop (λ (d : CmdDef). IsCommandLine s d) commands n
          (subst (λ (l : List CmdDef). AllByRecursion (λ (d : CmdDef). IsCommandLine s d) l) (sym e) f.commands)) in
          let is : command_at s.commands (c.loop-index.index + 1) ≡ Some c.index-commands-index.result =
          ap (λ (l : List CmdDef). command_at l (c.loop-index.index + 1)) (sym e) ∙ command_is commands n x rest next in
          let undone = and_parts (undoes_no_byte s rows)
          (are_answered_from s (run_state s rows).story 1 s.commands) a in
          asked_next s (run_state s rows).story n c.loop-index.replies.items c.push.new.self.items
          (drop n commands) rest x c.outcome_at-outcome.result next c.in_ok-push.ensures.items (i.told s rows f e h a)
          (λ answers. c.outcome_at-outcome.ensures.told s rows (i.over s rows h) is lines.0.host_is undone.0 answers);
    }

pub returns-clause-over : goal.returns-clause-over
returns-clause-over c = λ s rows h dev lt.
    let all : c.loop-index.index ≡ length c.args.commands.now = omega
    (arith, c.loop-index-test.false, c.loop-index.auto.index-end) in
    subst (λ (n : ℕ). IsPlaceOver s rows dev (n + 1) (slice_index_or c.loop-index.places dev None)) all
    (c.loop-index.invariant.over s rows h dev lt)
