-- What a device knows of its own rows goes on by them.
use Rattle.std.proofs.Common.{ℕ, ◌≡◌, ◌≢◌, ◌==◌, ◌∙◌, true, false, List, ◌∷◌, refl, sym, subst}
use Rattle.std.specs.Prelude.{if◌then◌else◌}
use Rattle.std.proofs.lemmas.Bool.{ne_eqb, eq-eqb}
use Rattle.bus_trace.specs.declared.Row.{Row}
use Rattle.bus_trace.specs.declared.changes.Change.{Change}
use Rattle.bus_trace.specs.Changes.{change_of}
use Rattle.scenario.specs.Value.{ScenarioValue}
use Rattle.due_model.specs.Own.{own_next, own_of}
use Rattle.scsi_device.specs.Itself.{ItselfValue, IsItselfOf, itself_with}

pub others_rows : (s : ScenarioValue) (rows : List Row) (row : Row) (v : ItselfValue) → row.dev ≢ v.dev
    → IsItselfOf s rows v → IsItselfOf s (row ∷ rows) v
others_rows s rows row v other h =
    let no : (row.dev == v.dev) ≡ false = ne_eqb row.dev v.dev other in
    record {
      own_is = h.own_is ∙ (λ j. if sym no j then own_next row.kind (own_of rows v.dev) (change_of rows row) row.time
          else own_of rows v.dev);
      resets_are = h.resets_are;
      reset_is = h.reset_is;
    }

own_row : (s : ScenarioValue) (rows : List Row) (row : Row) (v : ItselfValue) → row.dev ≡ v.dev → IsItselfOf s rows v
    → IsItselfOf s (row ∷ rows) (itself_with v (own_next row.kind v.own (change_of rows row) row.time))
own_row s rows row v own h =
    let yes : (row.dev == v.dev) ≡ true = eq-eqb row.dev v.dev own in
    record {
      own_is = (λ j. own_next row.kind (h.own_is j) (change_of rows row) row.time)
          ∙ (λ j. if sym yes j then own_next row.kind (own_of rows v.dev) (change_of rows row) row.time
          else own_of rows v.dev);
      resets_are = h.resets_are;
      reset_is = refl;
    }

pub own_rows : (s : ScenarioValue) (rows : List Row) (row : Row) (v w : ItselfValue) (c : Change) (time : ℕ)
    → row.dev ≡ v.dev → w ≡ itself_with v (own_next row.kind v.own c time) → c ≡ change_of rows row → time ≡ row.time
    → IsItselfOf s rows v → IsItselfOf s (row ∷ rows) w
own_rows s rows row v w c time own e x y h =
    let P : ItselfValue → Type 0 = λ z. IsItselfOf s (row ∷ rows) z in
    subst P (sym (e ∙ (λ j. itself_with v (own_next row.kind v.own (x j) (y j))))) (own_row s rows row v own h)
