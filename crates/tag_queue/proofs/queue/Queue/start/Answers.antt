use Rattle.std.proofs.Common.{◌≡◌, ◌++◌, [], ℕ, length, List, Option, None, Some, false, sym, ap, subst, ◌∙◌, arith}
use Rattle.std.proofs.Common.{take, drop}
use Rattle.std.proofs.lemmas.Grind.{common_steps}
use Rattle.std.specs.Vec.{vec_capacity}
use Rattle.tag_queue.specs.declared.arrivals.Arrival.{Arrival}
use Rattle.tag_queue.specs.Queue.{QueueState, has_key, queue_started, waiting_in, waiting_of, without_key}
use Rattle.tag_queue.specs.Stored.{queued_at, lowered, IsSound}
use Rattle.tag_queue.proofs.Sound.{has_key_queued, live_entry, start_sound, queued_lowered, put_whole}
use Rattle.tag_queue.proofs.Waiting.{waiting_started}
use Rattle.tag_queue.proofs.queue.Queue.start.Goals as goal

pub lower_later-requires-clause-live : goal.lower_later-requires-clause-live
lower_later-requires-clause-live c =
    let s = c.self.inside in
    let live = sym (has_key_queued s.entries c.args.key None s.current s.arrivals.items [] c.self.invariant.kept)
    ∙ ap (λ (q : QueueState). has_key q.arrived c.args.key) c.self.view_is ∙ c.requires.live in
    live_entry s.entries c.args.key None s.current s.arrivals.items [] c.self.invariant.kept live

pub invariant_of-self : goal.invariant_of-self
invariant_of-self c =
    let s = c.self.inside in
    let live = sym (has_key_queued s.entries c.args.key None s.current s.arrivals.items [] c.self.invariant.kept)
    ∙ ap (λ (q : QueueState). has_key q.arrived c.args.key) c.self.view_is ∙ c.requires.live in
    let found = live_entry s.entries c.args.key None s.current s.arrivals.items [] c.self.invariant.kept live in
    let lower : c.lower_later.new.arrivals ≡ lowered s.entries found.0 c.args.key false s.arrivals.items =
    c.lower_later.ensures found.0 found.1
    ∙ ap (lowered s.entries found.0 c.args.key false) c.as_mut_slice.ensures.value in
    let none : s.current ≡ None = ap (λ (q : QueueState). q.current) c.self.view_is ∙ c.requires.none in
    let sound = subst (λ (current : Option ℕ). IsSound s.entries s.arrivals.items current s.depth
    (vec_capacity s.arrivals)) none c.self.invariant in
    subst (λ (xs : List Arrival). IsSound s.entries xs (Some c.args.key) s.depth (vec_capacity s.arrivals))
    (sym (put_whole _ c.lower_later.new.arrivals s.arrivals.items (grind (arith, common_steps)) ∙ lower))
    (start_sound s.entries s.arrivals.items s.depth (vec_capacity s.arrivals) c.args.key found.0 sound found.1 live)

pub returns-clause-exact : goal.returns-clause-exact
returns-clause-exact c =
    let s = c.self.inside in
    let live = sym (has_key_queued s.entries c.args.key None s.current s.arrivals.items [] c.self.invariant.kept)
    ∙ ap (λ (q : QueueState). has_key q.arrived c.args.key) c.self.view_is ∙ c.requires.live in
    let found = live_entry s.entries c.args.key None s.current s.arrivals.items [] c.self.invariant.kept live in
    let lower : c.lower_later.new.arrivals ≡ lowered s.entries found.0 c.args.key false s.arrivals.items =
    c.lower_later.ensures found.0 found.1
    ∙ ap (lowered s.entries found.0 c.args.key false) c.as_mut_slice.ensures.value in
    let same : queued_at s.entries
    (take s.arrivals.len (c.lower_later.new.arrivals ++ drop (length c.lower_later.new.arrivals) s.arrivals.items))
    ≡ queued_at s.entries s.arrivals.items = ap (queued_at s.entries)
    (put_whole _ c.lower_later.new.arrivals s.arrivals.items (grind (arith, common_steps)) ∙ lower)
    ∙ queued_lowered s.entries found.0 c.args.key s.arrivals.items false in
    (λ i. record {
      depth = s.depth;
      keys = s.entries.capacity;
      arrived = same i;
      current = Some c.args.key;
      hold = s.hold;
    }) ∙ ap (λ (q : QueueState). queue_started q c.args.key) c.self.view_is

pub returns-clause-waiting : goal.returns-clause-waiting
returns-clause-waiting c = ap waiting_of (returns-clause-exact c) ∙ waiting_started c.args.self.now.arrived c.args.key
    ∙ ap (λ (current : Option ℕ). without_key (waiting_in current c.args.self.now.arrived) c.args.key)
    (sym c.requires.none)
