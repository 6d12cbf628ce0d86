use Rattle.std.proofs.Common.{◌∙◌, ◌++◌, ◌∷◌, ◌+◌, [], List, ℕ, ap, sym, subst, append_assoc}
use Rattle.bus_trace.specs.OfTrace.{IsKind}
use Rattle.bus_trace.specs.declared.Kind.{Kind}
use Rattle.trace_text.specs.RowText.{kind_text}
use Rattle.trace_text.proofs.RowAgain.{one_digit}
use Rattle.trace_text.proofs.rows.put_kind.Goals as goal

pub returns-in-Fault-clause-bytes : goal.returns-in-Fault-clause-bytes
returns-in-Fault-clause-bytes c =
    c.put-in-Fault.ensures.bytes ∙ ap (λ (l : List ℕ). l ++ (48 + c.in-Fault.bit) ∷ []) c.put.ensures.bytes
    ∙ append_assoc c.args.text.now.bytes (102 ∷ []) ((48 + c.in-Fault.bit) ∷ [])
    ∙ ap (λ (l : List ℕ). c.args.text.now.bytes ++ 102 ∷ l)
    (sym (one_digit c.in-Fault.bit (subst (λ (k : Kind). IsKind k) c.in-Fault.is c.requires.kind)))
    ∙ ap (λ (k : Kind). c.args.text.now.bytes ++ kind_text k) (sym c.in-Fault.is)
