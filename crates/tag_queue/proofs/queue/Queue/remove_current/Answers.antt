use Rattle.std.proofs.Common.{◌≡◌, [], ℕ, List, Option, None, Some, length, refl, sym, ap, subst, ◌∙◌, rules}
use Rattle.std.specs.Prelude.{IsSome}
use Rattle.std.specs.List.{filter}
use Rattle.std.specs.Vec.{vec_capacity}
use Rattle.std.proofs.lemmas.Fn.{filter_same}
use Rattle.tag_queue.specs.declared.arrivals.Arrival.{Arrival}
use Rattle.tag_queue.specs.Queue.{QueueState, entry_at, queue_left, without_key}
use Rattle.tag_queue.specs.Stored.{queued_at, IsAmong, IsSound}
use Rattle.tag_queue.proofs.Sound.{keeps, live_entry, entry_queued, current_left_sound, queued_without, one_fewer}
use Rattle.tag_queue.proofs.queue.Queue.remove_current.Goals as goal

pub remove-requires : goal.remove-requires
remove-requires c =
    let s = c.self.inside in
    let it : s.current ≡ Some c.args.key = ap (λ (q : QueueState). q.current) c.self.view_is ∙ c.requires.current in
    let found = live_entry s.entries c.args.key None s.current s.arrivals.items [] c.self.invariant.kept
    (subst (IsAmong s.arrivals.items) it c.self.invariant.current_is_live) in
    subst IsSome (sym found.1) refl

pub invariant_of-self : goal.invariant_of-self
invariant_of-self c =
    let s = c.self.inside in
    let it : s.current ≡ Some c.args.key = ap (λ (q : QueueState). q.current) c.self.view_is ∙ c.requires.current in
    let sound = subst (λ (current : Option ℕ). IsSound s.entries s.arrivals.items current s.depth
    (vec_capacity s.arrivals)) it c.self.invariant in
    let left : c.retain.new.self.items ≡ filter (λ a. keeps a c.args.key) s.arrivals.items = filter_same _ _ _
    (λ x b f' k. search rules) _ _ c.retain.ensures.filtered in
    subst (λ (xs : List Arrival). IsSound c.remove.new.self xs None s.depth (vec_capacity c.retain.new.self)) (sym left)
    (current_left_sound s.entries c.remove.new.self s.arrivals.items s.depth (vec_capacity s.arrivals) _ c.args.key
    sound c.remove.ensures.updates c.remove.ensures.len c.remove.ensures.capacity c.retain.ensures.capacity)

pub returns-clause-entry : goal.returns-clause-entry
returns-clause-entry c =
    let s = c.self.inside in
    let it : s.current ≡ Some c.args.key = ap (λ (q : QueueState). q.current) c.self.view_is ∙ c.requires.current in
    let live = subst (IsAmong s.arrivals.items) it c.self.invariant.current_is_live in
    ap (λ (q : QueueState). entry_at q.arrived c.args.key) (sym c.self.view_is)
    ∙ entry_queued s.entries c.args.key None s.current s.arrivals.items [] c.self.invariant.kept live
    ∙ c.remove.ensures.value

pub returns-clause-exact : goal.returns-clause-exact
returns-clause-exact c =
    let s = c.self.inside in
    let left : c.retain.new.self.items ≡ filter (λ a. keeps a c.args.key) s.arrivals.items = filter_same _ _ _
    (λ x b f' k. search rules) _ _ c.retain.ensures.filtered in
    let now : queued_at c.remove.new.self c.retain.new.self.items
    ≡ without_key (queued_at s.entries s.arrivals.items) c.args.key = ap (queued_at c.remove.new.self) left
    ∙ queued_without s.entries c.remove.new.self c.args.key None s.current
    s.arrivals.items [] c.remove.ensures.updates.others c.self.invariant.kept in
    (λ i. record {
      depth = s.depth;
      keys = c.remove.ensures.capacity i;
      arrived = now i;
      current = None;
      hold = s.hold;
    }) ∙ ap (λ (q : QueueState). queue_left q c.args.key None) c.self.view_is

pub returns-clause-one : goal.returns-clause-one
returns-clause-one c = one_fewer c.self.inside.entries c.remove.new.self c.self.inside.arrivals.items
    c.retain.new.self.items c.self.inside.current None c.self.inside.depth (vec_capacity c.self.inside.arrivals)
    (vec_capacity c.retain.new.self) c.self.invariant (invariant_of-self c) c.remove.ensures.len
    ∙ ap (λ (q : QueueState). length q.arrived) c.self.view_is
