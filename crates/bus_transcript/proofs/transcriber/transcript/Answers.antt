use Rattle.std.proofs.Common.{◌≡◌, ◌∙◌, List, [], ◌∷◌, ◌++◌, ap, subst, sym, reverse, append_assoc, append-nil}
use Rattle.std.specs.List.{AllByRecursion}
use Rattle.std.proofs.lemmas.List.{reverse-append}
use Rattle.bus_trace.specs.declared.Row.{Row}
use Rattle.bus_trace.specs.OfTrace.{IsOfDevice}
use Rattle.bus_transcript.specs.Rows.{after_row, finished, transcribed, transcript_of}
use Rattle.bus_transcript.proofs.OnOks.{ok_map}
use Rattle.bus_transcript.proofs.transcriber.transcript.Goals as goal

pub loop-row-init : goal.loop-row-init
loop-row-init c =
    let all = c.into_iter-row-iterator.ensures.into_iter_gives ∙ c.iter-row-items.ensures.rows in (
      tt,
      tt,
      ([], c.new-transcriber.ensures, append-nil _ ∙ ap (λ (rows : List Row). reverse rows) all),
      subst (λ (rows : List Row). AllByRecursion IsOfDevice rows) (sym all) c.requires,
    )

pub see-requires : goal.see-requires
see-requires c =
    (subst (λ (rows : List Row). AllByRecursion IsOfDevice rows) c.in-Some.ensures.steps c.loop-row.invariant.3).0

pub loop-row-preserved : goal.loop-row-preserved
loop-row-preserved c =
    let left = c.in-Some.ensures.steps in
    let row = c.in-Some.row in
    let rest = c.next.new.self in
    let (seen, is, whole) = c.loop-row.invariant.2 in (
      tt,
      tt,
      (
        row ∷ seen,
        c.in_ok-see.ensures ∙ ap (λ t. after_row t row) is,
        sym (append_assoc (reverse rest) (row ∷ []) seen) ∙ ap (λ (rows : List Row). rows ++ seen)
            (sym (reverse-append (row ∷ []) rest) ∙ ap (λ (rows : List Row). reverse rows) (sym left))
            ∙ whole,
      ),
      (subst (λ (rows : List Row). AllByRecursion IsOfDevice rows) left c.loop-row.invariant.3).1,
    )

pub returns : goal.returns
returns c =
    let (seen, is, whole) = c.loop-row.invariant.2 in
    let all = ap (λ (rest : List Row). reverse rest ++ seen) (sym c.in-None.ensures.steps.0) ∙ whole in
    ok_map c.finish.result (λ t. t.items.items ≡ finished c.loop-row.transcriber)
    (λ t. t.items.items ≡ transcript_of (reverse c.args.rows.now))
    (λ t e. e ∙ ap (λ x. finished x) (is ∙ ap (λ (rows : List Row). transcribed rows) all)) c.finish.ensures
