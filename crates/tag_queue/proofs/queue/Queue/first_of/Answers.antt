use Rattle.std.proofs.Common.{◌≡◌, ℕ, Option, None, Some, true, List, [], sym, ap, subst, ◌∙◌}
use Rattle.std.specs.Prelude.{IfNone, IfSome}
use Rattle.tag_queue.specs.declared.arrivals.Arrival.{Arrival}
use Rattle.tag_queue.specs.Queue.{QueueState, has_key, queue_cleared_of, current_among}
use Rattle.tag_queue.specs.Stored.{queued_at, AreOf, first_of}
use Rattle.tag_queue.proofs.Clearing.{first_live, first_entry, are_of, all_stay, current_stays}
use Rattle.tag_queue.proofs.queue.Queue.first_of.Goals as goal

pub returns-clause-live : goal.returns-clause-live
returns-clause-live c = go c.first_of.result (c.first_of.ensures
    ∙ ap (λ (xs : List Arrival). first_of (queued_at c.self.inside.entries xs) c.args.who) c.as_slice.ensures.value
    ∙ ap (λ (q : QueueState). first_of q.arrived c.args.who) c.self.view_is)
  where
    go : (r : Option ℕ) → r ≡ first_of c.args.self.now.arrived c.args.who
        → IfSome r (λ key. has_key c.args.self.now.arrived key ≡ true)
    go None e = tt
    go (Some key) e = first_live c.args.self.now.arrived c.args.who key (sym e)

pub returns-clause-theirs : goal.returns-clause-theirs
returns-clause-theirs c = go c.first_of.result (c.first_of.ensures
    ∙ ap (λ (xs : List Arrival). first_of (queued_at c.self.inside.entries xs) c.args.who) c.as_slice.ensures.value)
  where
    go : (r : Option ℕ) → r ≡ first_of (queued_at c.self.inside.entries c.self.inside.arrivals.items) c.args.who
        → IfSome r (λ key. AreOf c.args.who key c.args.self.now.arrived)
    go None e = tt
    go (Some key) e =
        let s = c.self.inside in
        let it = first_entry s.entries None s.current c.args.who key s.arrivals.items [] c.self.invariant.kept
        (sym e) in
        subst (λ (q : QueueState). AreOf c.args.who key q.arrived) c.self.view_is
        (are_of s.entries None s.current c.args.who key it.0 s.arrivals.items [] c.self.invariant.kept it.1 it.2)

pub returns-clause-none : goal.returns-clause-none
returns-clause-none c = go c.first_of.result (c.first_of.ensures
    ∙ ap (λ (xs : List Arrival). first_of (queued_at c.self.inside.entries xs) c.args.who) c.as_slice.ensures.value)
  where
    go : (r : Option ℕ) → r ≡ first_of (queued_at c.self.inside.entries c.self.inside.arrivals.items) c.args.who
        → IfNone r (queue_cleared_of c.args.self.now c.args.who ≡ c.args.self.now)
    go (Some key) e = tt
    go None e =
        let s = c.self.inside in
        let stay = all_stay c.args.who (queued_at s.entries s.arrivals.items) (sym e) in
        sym (ap (λ (q : QueueState). queue_cleared_of q c.args.who) c.self.view_is) ∙ (λ i. record {
          depth = s.depth;
          keys = s.entries.capacity;
          arrived = stay i;
          current = current_among (stay i) s.current;
          hold = s.hold;
        }) ∙ (λ i. record {
          depth = s.depth;
          keys = s.entries.capacity;
          arrived = queued_at s.entries s.arrivals.items;
          current = current_stays s.entries s.arrivals.items None s.current s.current [] c.self.invariant.kept
              c.self.invariant.current_is_live i;
          hold = s.hold;
        }) ∙ c.self.view_is
