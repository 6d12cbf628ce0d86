use Rattle.std.proofs.Common.{◌≡◌, ◌≢◌, ◌<◌, ◌∙◌, ap, arith, length, length-set, get_or, get_or-set_other}
use Rattle.std.proofs.Common.{get_or-set_same, below_more, None, Option}
use Rattle.cdb_codec.specs.declared.Sense.{Sense}
use Rattle.disk_unit.specs.Books.{is_told}
use Rattle.disk_unit.proofs.books.tell_all.Goals as goal
use Rattle.array_model.specs.Seats.{attention_if_told}

pub loop-dev-preserved : goal.loop-dev-preserved
loop-dev-preserved c =
    let lt : c.loop-dev.dev < length c.loop-dev.attentions =
    (let e = c.loop-dev.invariant.long in let u = c.loop-dev-test.true in omega arith) in
    let here : get_or c.loop-dev.attentions c.loop-dev.dev None ≡ get_or c.args.attentions.now c.loop-dev.dev None =
    c.loop-dev.invariant.rest c.loop-dev.dev (omega arith) in
    record {
      long = length-set c.loop-dev.attentions c.loop-dev.dev c.attention_told.result ∙ c.loop-dev.invariant.long;
      done = below_more _ _ (λ k h. let ne : k ≢ c.loop-dev.dev = omega arith in
          rw get_or-set_other (c.loop-dev.invariant.done k h)) (rw get_or-set_same (c.attention_told.ensures
          ∙ ap (λ (a : Option Sense). attention_if_told (is_told c.args.by c.args.queue.now.arrived c.loop-dev.dev) a)
          here));
      rest = λ k h.
          let ne : k ≢ c.loop-dev.dev = omega arith in
          rw get_or-set_other (c.loop-dev.invariant.rest k (omega arith));
    }
