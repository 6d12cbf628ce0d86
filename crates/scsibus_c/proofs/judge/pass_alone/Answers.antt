use Rattle.std.proofs.Common.{◌≡◌, ◌∙◌, Bool, true, List, get_or, sym, ap, subst, not, arith}
use Rattle.std.proofs.lemmas.Bool.{eqb-true}
use Rattle.trace_checker.specs.Judging.{IsJudgeOf}
use Rattle.trace_checker.specs.Saved.{judge_in}
use Rattle.bus_trace.specs.declared.Row.{Row}
use Rattle.scsibus_c.specs.declared.rows.ScsibusRow.{ScsibusRow}
use Rattle.scsibus_c.specs.Rows.{is_row}
use Rattle.scsibus_c.proofs.Past.{alone, none_alone, of_device}
use Rattle.scsibus_c.proofs.judge.pass_alone.Goals as goal
use Rattle.scsibus_c.proofs.judge.pass_alone.Goals.{then-state-eq-FORM, else-state-eq-FORM}

pub pass-requires : goal.pass-requires
pass-requires c =
    let r : ScsibusRow = get_or c.args.rows.now 0 (record { time = 0; value = 0; dev = 0; kind = 0 }) in
    let inside : is_row r ≡ true = elim c.if-state-eq-FORM.branch [
      | then-state-eq-FORM w ↦ sym w.is_row.ensures ∙ (sym w.value-is ∙ c.if-is_row.true)
      | else-state-eq-FORM w ↦ absurd (w.if-state-eq-FORM.false (eqb-true _ _ (sym w.value-is ∙ c.if-is_row.true)))
    ] in
    of_device r (ap (λ (b : Bool). not b) inside)

pub returns-then-is_row-clause-in_range : goal.returns-then-is_row-clause-in_range
returns-then-is_row-clause-in_range c = λ _.
    none_alone c.args.rows.now _ c.in-len1.len_at_least c.in-len1.len_below (elim c.if-state-eq-FORM.branch [
      | then-state-eq-FORM w ↦ sym w.is_row.ensures ∙ (sym w.value-is ∙ c.if-is_row.true)
      | else-state-eq-FORM w ↦ absurd (w.if-state-eq-FORM.false (eqb-true _ _ (sym w.value-is ∙ c.if-is_row.true)))
    ])

pub returns-then-is_row-clause-kept : goal.returns-then-is_row-clause-kept
returns-then-is_row-clause-kept c = λ past is few e.
    let all = sym (alone past c.args.rows.now _ c.in-len1.len_at_least c.in-len1.len_below) in
    record {
      form = is.form;
      judge = subst (λ (ps : List Row). IsJudgeOf ps (judge_in c.pass.new.judge)) all
          (c.pass.ensures.kept past is.judge (omega arith) e);
    }
