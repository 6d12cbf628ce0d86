use Rattle.std.proofs.Common.{List, None, sym, subst, ap, ◌∙◌}
use Rattle.std.proofs.lemmas.List.{drop_more}
use Rattle.array_model.specs.Order.{may_run_in_order}
use Rattle.tag_queue.specs.declared.arrivals.Arrival.{Arrival}
use Rattle.tag_queue.specs.Queue.{place_of}
use Rattle.tag_queue.specs.Stored.{waiting_at, entries_at, AreKept}
use Rattle.tag_queue.proofs.Scans.{runs_here}
use Rattle.tag_queue.proofs.arrivals.place_standing.Goals as goal

pub returns-then-arrival-key-clause-runs : goal.returns-then-arrival-key-clause-runs
returns-then-arrival-key-clause-runs c =
    let h = c.loop-arrival.invariant in
    let left = drop_more c.args.arrivals.now c.loop-arrival.arrival-index
    (record { key = 0; earlier = 0 }) c.loop-arrival-test.true in
    c.may_run_past-runs.ensures ∙ sym (runs_here c.args.entries.now c.args.current h.0
    _ _ c.live_entry-entry.result c.args.key c.loop-arrival.place c.loop-arrival.ordered
    (subst (λ (xs : List Arrival). AreKept c.args.entries.now None c.args.current h.0 xs) left h.1)
    c.live_entry-entry.ensures (sym c.is_current.ensures ∙ c.if-not-is_current.true) c.if-arrival-key.true h.2 h.3)
    ∙ sym (ap (λ (xs : List Arrival). may_run_in_order h.0 (entries_at c.args.entries.now c.args.current xs)
    (place_of (waiting_at c.args.entries.now c.args.current xs) c.args.key)) left)
    ∙ h.5
