use Rattle.std.proofs.Common.{◌≡◌, ◌<◌, ◌++◌, [], ◌∷◌, length, List, None, sym, ap, subst, ◌∙◌, arith}
use Rattle.std.proofs.lemmas.Grind.{common_steps}
use Rattle.std.specs.Vec.{vec_capacity}
use Rattle.tag_queue.specs.declared.arrivals.Arrival.{Arrival}
use Rattle.tag_queue.specs.Queue.{Queued, QueueState, queued, is_current, has_key, waiting_of, queue_with}
use Rattle.tag_queue.specs.Stored.{queued_at, entries_at, held_back_by, IsSound}
use Rattle.tag_queue.proofs.Sound.{enter_sound, current_other, fresh_key, queued_push, queued_others, has_key_queued}
use Rattle.tag_queue.proofs.Sound.{length_queued}
use Rattle.tag_queue.proofs.Waiting.{waiting_push}
use Rattle.tag_queue.proofs.queue.Queue.enter.Goals as goal

pub returns-then-len-self-clause-full : goal.returns-then-len-self-clause-full
returns-then-len-self-clause-full c =
    let l = length_queued c.self.inside.entries None c.self.inside.current
    c.self.inside.arrivals.items [] c.self.invariant.kept in
    rw (← c.self.view_is) grind (arith, common_steps)

pub returns-clause-below : goal.returns-clause-below
returns-clause-below c =
    let l = length_queued c.self.inside.entries None c.self.inside.current
    c.self.inside.arrivals.items [] c.self.invariant.kept in
    rw (← c.self.view_is) grind (arith, common_steps)

pub returns-clause-fresh : goal.returns-clause-fresh
returns-clause-fresh c =
    let s = c.self.inside in
    ap (λ (q : QueueState). has_key q.arrived c.insert_reserved-key.result) (sym c.self.view_is)
    ∙ has_key_queued s.entries c.insert_reserved-key.result None s.current s.arrivals.items [] c.self.invariant.kept
    ∙ fresh_key s.entries None s.current s.arrivals.items [] c.insert_reserved-key.result c.self.invariant.kept
    c.insert_reserved-key.ensures.was_vacant

pub invariant_of-self : goal.invariant_of-self
invariant_of-self c =
    let s = c.self.inside in
    let a : Arrival = record { key = c.insert_reserved-key.result; earlier = c.earlier_conflicts-earlier.result } in
    let below : length s.arrivals.items < s.depth = grind (arith, common_steps, c.self.invariant.fits) in
    subst (λ (xs : List Arrival). IsSound c.insert_reserved-key.new.self xs s.current s.depth
    (vec_capacity c.push_reserved.new.self)) (sym c.push_reserved.ensures.items)
    (enter_sound s.entries c.insert_reserved-key.new.self s.arrivals.items s.current s.depth
    (vec_capacity s.arrivals) _ a c.args.p c.self.invariant below c.insert_reserved-key.ensures.was_vacant
    c.insert_reserved-key.ensures.updates c.insert_reserved-key.ensures.len
    c.insert_reserved-key.ensures.capacity c.push_reserved.ensures.capacity (c.earlier_conflicts-earlier.ensures
    ∙ ap (λ (xs : List Arrival). held_back_by (entries_at s.entries s.current xs) c.args.p) c.as_slice.ensures.value))

pub returns-clause-entered : goal.returns-clause-entered
returns-clause-entered c =
    let s = c.self.inside in
    let a : Arrival = record { key = c.insert_reserved-key.result; earlier = c.earlier_conflicts-earlier.result } in
    let fresh = fresh_key s.entries None s.current s.arrivals.items []
    a.key c.self.invariant.kept c.insert_reserved-key.ensures.was_vacant in
    let now : queued_at c.insert_reserved-key.new.self c.push_reserved.new.self.items
    ≡ queued_at s.entries s.arrivals.items ++ record { key = a.key; entry = c.args.p } ∷ [] =
    ap (queued_at c.insert_reserved-key.new.self) c.push_reserved.ensures.items ∙ queued_push
    c.insert_reserved-key.new.self s.arrivals.items a c.args.p c.insert_reserved-key.ensures.updates.changed
    ∙ ap (λ (q : List Queued). q ++ record { key = a.key; entry = c.args.p } ∷ []) (queued_others s.entries
    c.insert_reserved-key.new.self a.key s.arrivals.items fresh c.insert_reserved-key.ensures.updates.others) in
    (λ i. record {
      depth = s.depth;
      keys = c.insert_reserved-key.ensures.capacity i;
      arrived = now i;
      current = s.current;
      hold = s.hold;
    }) ∙ ap (λ (q : QueueState). queue_with q a.key c.args.p) c.self.view_is

pub returns-clause-waiting : goal.returns-clause-waiting
returns-clause-waiting c =
    let s = c.self.inside in
    let fresh = fresh_key s.entries None s.current s.arrivals.items []
    c.insert_reserved-key.result c.self.invariant.kept c.insert_reserved-key.ensures.was_vacant in
    ap waiting_of (returns-clause-entered c)
    ∙ waiting_push c.args.self.now.current c.args.self.now.arrived (queued c.insert_reserved-key.result c.args.p)
    (sym (ap (λ (q : QueueState). is_current q.current c.insert_reserved-key.result) c.self.view_is)
    ∙ current_other s.arrivals.items s.current c.insert_reserved-key.result c.self.invariant.current_is_live fresh)
