use Rattle.std.proofs.Common.{◌≡◌, ◌++◌, length, arith}
use Rattle.std.specs.Prelude.{codes, map}
use Rattle.std.proofs.lemmas.Grind.{common_steps}
use Rattle.run_record.specs.Value.{RunValue, held_by, reeled_by}
use Rattle.trace_text.specs.ShortText.{count_text, endings_text, short_text}
use Rattle.text_pages.proofs.Putting.{and_then, put_as}
use Rattle.trace_text.proofs.short_form.put_short.Goals as goal

pub returns : goal.returns
returns g c =
    let parts = and_then c.put.ensures
    (and_then c.put_count.ensures (and_then c.put_count-2.ensures c.put_endings.ensures)) in
    let rows : c.len.result ≡ length c.run.inside.rows = grind (arith, common_steps) in
    let view : RunValue = record {
      rows = c.run.inside.rows;
      end = c.run.inside.end;
      history = c.run.inside.history.items;
      replies = c.run.inside.replies.items;
      disks = map held_by c.run.inside.disks.items;
      tapes = map reeled_by c.run.inside.tapes.items;
    } in
    put_as _ (put_as (short_text view) parts (λ j. codes "short 1\n" ++ (count_text (codes "rows") (rows j)
    ++ (count_text (codes "end") c.run.inside.end ++ endings_text (c.deref.ensures.value j)))))
    (λ j. short_text (c.run.view_is j))
