use Rattle.std.proofs.Common.{◌≡◌, ◌+◌, suc, Bool, not, ◌&&◌, ◌||◌, List, [], ◌∷◌, ◌++◌, None, Some, drop, get_or, sym}
use Rattle.std.proofs.Common.{subst, ap, ◌∙◌, arith}
use Rattle.std.specs.Prelude.{◌==◌, if◌then◌else◌}
use Rattle.std.proofs.lemmas.List.{drop_more}
use Rattle.std.proofs.lemmas.Grind.{common_steps}
use Rattle.array_model.specs.Order.{is_ordered, runnable_after}
use Rattle.tag_queue.specs.declared.arrivals.Arrival.{Arrival}
use Rattle.tag_queue.specs.Queue.{entries_in}
use Rattle.tag_queue.specs.Stored.{entries_at, AreKept}
use Rattle.tag_queue.proofs.Scans.{last_or, last_here, last_or_picked, kept_rest, kept_rest_of_current, passes_current}
use Rattle.tag_queue.proofs.Scans.{has_ordered_more}
use Rattle.tag_queue.proofs.arrivals.last_in_order.Goals as goal
use Rattle.tag_queue.proofs.arrivals.last_in_order.Goals.{then-not-is_current, else-not-is_current}

pub loop-arrival-preserved : goal.loop-arrival-preserved
loop-arrival-preserved c =
    let h = c.loop-arrival.invariant in
    let left = drop_more c.args.arrivals.now c.loop-arrival.arrival-index
    (record { key = 0; earlier = 0 }) c.loop-arrival-test.true in
    let kept = subst (λ (xs : List Arrival). AreKept c.args.entries.now None c.args.current h.0 xs) left h.1 in
    let told = sym (ap (λ (xs : List Arrival). last_or c.loop-arrival.found
    (runnable_after h.0 c.loop-arrival.place (entries_at c.args.entries.now c.args.current xs))) left) ∙ h.4 in
    elim c.if-not-is_current.branch [
      | then-not-is_current w ↦
          let p = w.live_entry-entry.result in
          let waits = sym c.is_current.ensures ∙ w.if-not-is_current.true in
          let found : c.if-not-is_current.found ≡ (if (if is_ordered p.class then c.loop-arrival.place == 0
          else not c.loop-arrival.ordered && (get_or c.args.arrivals.now c.loop-arrival.arrival-index (record {
            key = 0;
            earlier = 0;
          })).earlier == 0) then Some c.loop-arrival.place else c.loop-arrival.found) = w.found-is
          ∙ w.place_if-found.ensures ∙ ap
          (λ (b : Bool). if b then Some c.loop-arrival.place else c.loop-arrival.found) w.may_run_past-runs.ensures in
          let place : c.if-not-is_current.place ≡ suc c.loop-arrival.place = omega arith in (
            h.0 ++ p ∷ [],
            kept_rest c.args.entries.now c.args.current h.0 _ _ p kept w.live_entry-entry.ensures waits,
            grind (arith, common_steps),
            w.ordered-is ∙ (λ i. h.3 i || w.is_ordered-ordered.ensures i) ∙ sym (has_ordered_more h.0 p),
            (λ i. last_or (found i) (runnable_after (h.0 ++ p ∷ []) (place i) (entries_at c.args.entries.now
                c.args.current (drop (c.loop-arrival.arrival-index + 1) c.args.arrivals.now))))
                ∙ sym (last_here c.args.entries.now c.args.current h.0 _ _ p c.loop-arrival.place
                c.loop-arrival.ordered c.loop-arrival.found kept w.live_entry-entry.ensures waits h.2 h.3)
                ∙ told,
            omega arith,
          )
      | else-not-is_current w ↦
          let is_it = sym c.is_current.ensures ∙ w.if-not-is_current.false in (
            h.0,
            kept_rest_of_current c.args.entries.now c.args.current h.0 _ _ kept is_it,
            w.place-is ∙ h.2,
            w.ordered-is ∙ h.3,
            (λ i. last_or (w.found-is i) (runnable_after h.0 (w.place-is i) (entries_in (sym (passes_current
                c.args.entries.now c.args.current (get_or c.args.arrivals.now c.loop-arrival.arrival-index (record {
                  key = 0;
                  earlier = 0;
                })) (drop (c.loop-arrival.arrival-index + 1) c.args.arrivals.now) kept.0 kept.1 is_it) i))))
                ∙ told,
            omega arith,
          )
    ]

pub returns : goal.returns
returns c = grind (arith, common_steps, last_or_picked)
