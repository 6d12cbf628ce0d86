use Rattle.std.proofs.Common.{◌≡◌, ℕ, Option, None, Some, true, [], sym, ap, subst, ◌∙◌}
use Rattle.std.specs.Prelude.{IfSome}
use Rattle.tag_queue.specs.Queue.{QueueState, has_key}
use Rattle.tag_queue.specs.Stored.{queued_at, IsAmong}
use Rattle.tag_queue.proofs.Sound.{has_key_queued}
use Rattle.tag_queue.proofs.queue.Queue.current.Goals as goal

pub returns-clause-live : goal.returns-clause-live
returns-clause-live c =
    let s = c.self.inside in
    subst (λ (q : QueueState). IfSome s.current (λ key. has_key q.arrived key ≡ true)) c.self.view_is
    (go s.current c.self.invariant.current_is_live)
  where
    go : (current : Option ℕ) → IsAmong c.self.inside.arrivals.items current
        → IfSome current (λ key. has_key (queued_at c.self.inside.entries c.self.inside.arrivals.items) key ≡ true)
    go None h = tt
    go (Some key) h = has_key_queued c.self.inside.entries key None c.self.inside.current c.self.inside.arrivals.items
        [] c.self.invariant.kept ∙ h
