use Rattle.std.proofs.Common.{◌≡◌, ◌++◌, [], List, None, false, length, take, drop, refl, sym, ap, subst, ◌∙◌, arith}
use Rattle.std.proofs.Common.{rules}
use Rattle.std.specs.Prelude.{IsSome}
use Rattle.std.specs.List.{filter}
use Rattle.std.specs.Vec.{vec_capacity}
use Rattle.std.proofs.lemmas.Fn.{filter_same}
use Rattle.std.proofs.lemmas.Grind.{common_steps}
use Rattle.tag_queue.specs.declared.arrivals.Arrival.{Arrival}
use Rattle.tag_queue.specs.Queue.{QueueState, has_key, is_current, entry_at, queue_left, without_key}
use Rattle.tag_queue.specs.Stored.{queued_at, lowered, IsSound}
use Rattle.tag_queue.proofs.Sound.{keeps, has_key_queued, live_entry, entry_queued, waiting_left_sound, waiting_left}
use Rattle.tag_queue.proofs.Sound.{put_whole, one_fewer}
use Rattle.tag_queue.proofs.queue.Queue.remove_waiting.Goals as goal

pub lower_later-requires-clause-live : goal.lower_later-requires-clause-live
lower_later-requires-clause-live c =
    let s = c.self.inside in
    let live = sym (has_key_queued s.entries c.args.key None s.current s.arrivals.items [] c.self.invariant.kept)
    ∙ ap (λ (q : QueueState). has_key q.arrived c.args.key) c.self.view_is ∙ c.requires.live in
    live_entry s.entries c.args.key None s.current s.arrivals.items [] c.self.invariant.kept live

pub remove-requires : goal.remove-requires
remove-requires c =
    let s = c.self.inside in
    let live = sym (has_key_queued s.entries c.args.key None s.current s.arrivals.items [] c.self.invariant.kept)
    ∙ ap (λ (q : QueueState). has_key q.arrived c.args.key) c.self.view_is ∙ c.requires.live in
    let found = live_entry s.entries c.args.key None s.current s.arrivals.items [] c.self.invariant.kept live in
    subst IsSome (sym found.1) refl

pub invariant_of-self : goal.invariant_of-self
invariant_of-self c =
    let s = c.self.inside in
    let live = sym (has_key_queued s.entries c.args.key None s.current s.arrivals.items [] c.self.invariant.kept)
    ∙ ap (λ (q : QueueState). has_key q.arrived c.args.key) c.self.view_is ∙ c.requires.live in
    let found = live_entry s.entries c.args.key None s.current s.arrivals.items [] c.self.invariant.kept live in
    let waits = ap (λ (q : QueueState). is_current q.current c.args.key) c.self.view_is ∙ c.requires.waits in
    let lower : c.lower_later.new.arrivals ≡ lowered s.entries found.0 c.args.key false s.arrivals.items =
    c.lower_later.ensures found.0 found.1
    ∙ ap (lowered s.entries found.0 c.args.key false) c.as_mut_slice.ensures.value in
    let left : c.retain.new.self.items ≡ filter (λ a. keeps a c.args.key)
    (take s.arrivals.len (c.lower_later.new.arrivals ++ drop (length c.lower_later.new.arrivals) s.arrivals.items)) =
    filter_same _ _ _ (λ x b f' k. search rules) _ _ c.retain.ensures.filtered in
    let whole = put_whole s.arrivals.len c.lower_later.new.arrivals s.arrivals.items (grind (arith, common_steps))
    ∙ lower in
    subst (λ (xs : List Arrival). IsSound c.remove.new.self xs s.current s.depth (vec_capacity c.retain.new.self))
    (sym (left ∙ ap (filter (λ (a : Arrival). keeps a c.args.key)) whole))
    (waiting_left_sound s.entries c.remove.new.self s.arrivals.items s.current s.depth
    (vec_capacity s.arrivals) _ c.args.key found.0 c.self.invariant found.1 waits live c.remove.ensures.updates
    c.remove.ensures.len c.remove.ensures.capacity c.retain.ensures.capacity)

pub returns-clause-entry : goal.returns-clause-entry
returns-clause-entry c =
    let s = c.self.inside in
    let live = sym (has_key_queued s.entries c.args.key None s.current s.arrivals.items [] c.self.invariant.kept)
    ∙ ap (λ (q : QueueState). has_key q.arrived c.args.key) c.self.view_is ∙ c.requires.live in
    ap (λ (q : QueueState). entry_at q.arrived c.args.key) (sym c.self.view_is)
    ∙ entry_queued s.entries c.args.key None s.current s.arrivals.items [] c.self.invariant.kept live
    ∙ c.remove.ensures.value

pub returns-clause-exact : goal.returns-clause-exact
returns-clause-exact c =
    let s = c.self.inside in
    let live = sym (has_key_queued s.entries c.args.key None s.current s.arrivals.items [] c.self.invariant.kept)
    ∙ ap (λ (q : QueueState). has_key q.arrived c.args.key) c.self.view_is ∙ c.requires.live in
    let found = live_entry s.entries c.args.key None s.current s.arrivals.items [] c.self.invariant.kept live in
    let waits = ap (λ (q : QueueState). is_current q.current c.args.key) c.self.view_is ∙ c.requires.waits in
    let lower : c.lower_later.new.arrivals ≡ lowered s.entries found.0 c.args.key false s.arrivals.items =
    c.lower_later.ensures found.0 found.1
    ∙ ap (lowered s.entries found.0 c.args.key false) c.as_mut_slice.ensures.value in
    let left : c.retain.new.self.items ≡ filter (λ a. keeps a c.args.key)
    (take s.arrivals.len (c.lower_later.new.arrivals ++ drop (length c.lower_later.new.arrivals) s.arrivals.items)) =
    filter_same _ _ _ (λ x b f' k. search rules) _ _ c.retain.ensures.filtered in
    let whole = put_whole s.arrivals.len c.lower_later.new.arrivals s.arrivals.items (grind (arith, common_steps))
    ∙ lower in
    let now : queued_at c.remove.new.self c.retain.new.self.items
    ≡ without_key (queued_at s.entries s.arrivals.items) c.args.key =
    ap (queued_at c.remove.new.self) (left ∙ ap (filter (λ (a : Arrival). keeps a c.args.key)) whole)
    ∙ waiting_left s.entries c.remove.new.self s.arrivals.items s.current s.depth
    (vec_capacity s.arrivals) c.args.key found.0 c.self.invariant found.1 waits c.remove.ensures.updates in
    (λ i. record {
      depth = s.depth;
      keys = c.remove.ensures.capacity i;
      arrived = now i;
      current = s.current;
      hold = s.hold;
    }) ∙ ap (λ (q : QueueState). queue_left q c.args.key q.current) c.self.view_is

pub returns-clause-one : goal.returns-clause-one
returns-clause-one c =
    one_fewer c.self.inside.entries c.remove.new.self c.self.inside.arrivals.items c.retain.new.self.items
    c.self.inside.current c.self.inside.current c.self.inside.depth (vec_capacity c.self.inside.arrivals)
    (vec_capacity c.retain.new.self) c.self.invariant (invariant_of-self c) c.remove.ensures.len
    ∙ ap (λ (q : QueueState). length q.arrived) c.self.view_is
