use Rattle.std.proofs.Common.{ℕ, Bool, Option, None, ap, sym, ◌∙◌}
use Rattle.std.specs.Prelude.{if◌then◌else◌}
use Rattle.tag_queue.specs.Queue.{QueueState, is_current, waiting_in, waiting_of, without_key}
use Rattle.tag_queue.proofs.Waiting.{waiting_without}
use Rattle.tag_queue.proofs.queue.Queue.remove.Goals as goal

pub returns-then-is_current-clause-waiting : goal.returns-then-is_current-clause-waiting
returns-then-is_current-clause-waiting c =
    let now = c.args.self.now in
    let it = sym (ap (λ (q : QueueState). is_current q.current c.args.key) c.self.view_is)
    ∙ sym c.is_current.ensures ∙ c.if-is_current.true in
    ap waiting_of c.remove_current.ensures.exact
    ∙ ap (λ (current : Option ℕ). waiting_in current (without_key now.arrived c.args.key))
    (sym (ap (λ (b : Bool). if b then None else now.current) it))
    ∙ waiting_without now.current now.arrived c.args.key

pub returns-else-is_current-clause-waiting : goal.returns-else-is_current-clause-waiting
returns-else-is_current-clause-waiting c =
    let now = c.args.self.now in
    let other = sym (ap (λ (q : QueueState). is_current q.current c.args.key) c.self.view_is)
    ∙ sym c.is_current.ensures ∙ c.if-is_current.false in
    ap waiting_of c.remove_waiting.ensures.exact
    ∙ ap (λ (current : Option ℕ). waiting_in current (without_key now.arrived c.args.key))
    (sym (ap (λ (b : Bool). if b then None else now.current) other))
    ∙ waiting_without now.current now.arrived c.args.key
