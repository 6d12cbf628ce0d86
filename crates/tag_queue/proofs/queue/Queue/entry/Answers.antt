use Rattle.std.proofs.Common.{[], None, refl, sym, ap, subst, ◌∙◌}
use Rattle.std.specs.Prelude.{IsSome}
use Rattle.tag_queue.specs.Queue.{QueueState, has_key, entry_at}
use Rattle.tag_queue.proofs.Sound.{has_key_queued, entry_queued, live_entry}
use Rattle.tag_queue.proofs.queue.Queue.entry.Goals as goal

pub index-requires : goal.index-requires
index-requires c =
    let s = c.self.inside in
    let live = sym (has_key_queued s.entries c.args.key None s.current s.arrivals.items [] c.self.invariant.kept)
    ∙ ap (λ (q : QueueState). has_key q.arrived c.args.key) c.self.view_is ∙ c.requires.live in
    let found = live_entry s.entries c.args.key None s.current s.arrivals.items [] c.self.invariant.kept live in
    subst IsSome (sym found.1) refl

pub returns : goal.returns
returns c =
    let s = c.self.inside in
    let live = sym (has_key_queued s.entries c.args.key None s.current s.arrivals.items [] c.self.invariant.kept)
    ∙ ap (λ (q : QueueState). has_key q.arrived c.args.key) c.self.view_is ∙ c.requires.live in
    ap (λ (q : QueueState). entry_at q.arrived c.args.key) (sym c.self.view_is)
    ∙ entry_queued s.entries c.args.key None s.current s.arrivals.items [] c.self.invariant.kept live ∙ c.index.ensures
