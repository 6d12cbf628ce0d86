use Rattle.std.proofs.Common.{◌≡◌, ◌<◌, ◌+◌, Bool, ◌&&◌, List, None, length, get_or, sym, subst, ap, ◌∙◌, arith}
use Rattle.std.proofs.lemmas.List.{drop_more, drop-set-lt}
use Rattle.array_model.specs.declared.entries.Entry.{Entry}
use Rattle.array_model.specs.Order.{holds_back}
use Rattle.tag_queue.specs.declared.arrivals.Arrival.{Arrival}
use Rattle.tag_queue.specs.Stored.{is_out, before_with, AreKept}
use Rattle.tag_queue.proofs.Leaving.{lowered_step}
use Rattle.tag_queue.proofs.arrivals.lower_later.Goals as goal
use Rattle.tag_queue.proofs.arrivals.lower_later.Goals.{then-passed, else-passed}

pub loop-arrival-preserved : goal.loop-arrival-preserved
loop-arrival-preserved c =
    let h = c.loop-arrival.invariant in
    let i = c.loop-arrival.arrival-index in
    let xs = c.loop-arrival.arrivals in
    let within : i < length xs = omega arith in
    let left = drop_more xs i (record { key = 0; earlier = 0 }) within in
    let kept = subst (λ (ys : List Arrival). AreKept c.args.entries.now None h.0 h.1 ys) left h.2 in
    let before : List Entry = before_with
    (is_out None h.0 (get_or xs i (record { key = 0; earlier = 0 })).key) h.1 kept.0 in
    let further : i < i + 1 = omega arith in
    let lower : c.if-passed.lowered_arrival
    ≡ (c.loop-arrival.passed && holds_back c.live_entry-leaving.result c.live_entry-entry.result) = elim
    c.if-passed.branch [
      | then-passed w ↦ w.lowered_arrival-is ∙ w.holds_back.ensures ∙ sym
          (ap (λ (b : Bool). b && holds_back c.live_entry-leaving.result c.live_entry-entry.result) w.if-passed.true)
      | else-passed w ↦ w.lowered_arrival-is ∙ w.if-passed.false ∙ sym
          (ap (λ (b : Bool). b && holds_back c.live_entry-leaving.result c.live_entry-entry.result) w.if-passed.false)
    ] in (
      h.0,
      before,
      subst (λ (ys : List Arrival). AreKept c.args.entries.now None h.0 before ys)
          (sym (drop-set-lt (i + 1) xs i c.lowered_arrival.result further)) kept.3,
      lowered_step c.args.entries.now c.live_entry-leaving.result c.args.key c.loop-arrival.passed
          c.if-passed.lowered_arrival xs i (record { key = 0; earlier = 0 }) c.lowered_arrival.result
          c.live_entry-entry.result within c.live_entry-entry.ensures lower c.lowered_arrival.ensures _ h.3,
    )
