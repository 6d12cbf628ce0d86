use Rattle.std.proofs.Common.{◌≡◌, ℕ, ◌+◌, List, [], ◌∷◌, ◌++◌, ◌∙◌, ap, sym, append_assoc, decimal}
use Rattle.bus_trace.specs.declared.Row.{Row}
use Rattle.trace_text.specs.RowText.{lines_text, kind_text, row_text}
use Rattle.text_pages.proofs.Putting.{put_as}
use Rattle.trace_text.proofs.trace_part.put_row.Goals as goal

line : (time name kind feed : List ℕ) → time ++ ((name ++ kind) ++ feed) ≡ ((time ++ name) ++ kind) ++ feed
line time name kind feed = simp append_assoc

of_kind : (row : Row) (kind : List ℕ) → kind ≡ kind_text row.kind
    → decimal row.time ++ (32 ∷ (48 + row.dev) ∷ 32 ∷ [] ++ kind ++ 10 ∷ []) ≡ row_text row
of_kind row kind is =
    line (decimal row.time) (32 ∷ (48 + row.dev) ∷ 32 ∷ []) kind (10 ∷ [])
    ∙ ap (λ (k : List ℕ). decimal row.time ++ 32 ∷ (48 + row.dev) ∷ 32 ∷ [] ++ k ++ 10 ∷ []) is

pub returns-in-Drives : goal.returns-in-Drives
returns-in-Drives g c = put_as _ c.put_driven.ensures
    (of_kind c.args.row.now _ (ap lines_text c.bits.ensures.number ∙ ap kind_text (sym c.in-Drives.is)))

pub returns-in-Fault : goal.returns-in-Fault
returns-in-Fault g c = put_as _ c.put_fault.ensures (of_kind c.args.row.now _ (ap kind_text (sym c.in-Fault.is)))
