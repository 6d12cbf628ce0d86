-- The connection that a row leaves as it is, by what the row did.
use Rattle.std.proofs.Common.{◌≡◌, ◌∙◌, Bool, true, false, not, ◌&&◌, List, ◌∷◌, Option, Some, None, refl, sym, ap}
use Rattle.std.specs.Prelude.{IfSome, is_some, if◌then◌else◌}
use Rattle.std.proofs.lemmas.Bool.{and_parts, not-true}
use Rattle.bus_trace.specs.declared.Row.{Row}
use Rattle.bus_trace.specs.declared.connection.Connection.{Connection}
use Rattle.bus_trace.specs.Changes.{change_of}
use Rattle.bus_trace.specs.Trace.{bus}
use Rattle.bus_trace.specs.Terms.{call, connection, connection_after}
use Rattle.bus_lines.specs.Effect.{effect}
use Rattle.bus_run.specs.Standing.{is_end, IsKept, is_calm, kept_if, kept_by}

some_if : (q : Bool) (n : Connection) → is_some (if q then Some n else None) ≡ true
    → (if q then Some n else None) ≡ Some n
some_if true n e = refl
some_if false n e = cc

-- It goes on or ends, and is never another.
stays : (rows : List Row) (row : Row) (n : Connection) → connection rows ≡ Some n
    → is_some (connection (row ∷ rows)) ≡ true → connection (row ∷ rows) ≡ Some n
stays rows row n e h =
    let after : connection (row ∷ rows) ≡ (if (bus (row ∷ rows)).bsy then Some n else None) = ap
    (λ (o : Option Connection). connection_after o (call rows) (change_of rows row) row) e in
    after ∙ some_if (bus (row ∷ rows)).bsy n (ap (λ (o : Option Connection). is_some o) (sym after) ∙ h)

pub kept_is : (rows : List Row) (row : Row) → IfSome (kept_by (effect (row ∷ rows)) row.dev) (λ n. IsKept rows row n)
kept_is rows row = go (connection rows) refl
  where
    in_one : (n : Connection) → connection rows ≡ Some n
        → (q : Bool) → (is_calm (effect (row ∷ rows)) && is_end n row.dev) ≡ q
        → IfSome (if q then Some n else None) (λ n. IsKept rows row n)
    in_one n e false h = tt
    in_one n e true h =
        let both = and_parts (is_calm (effect (row ∷ rows))) (is_end n row.dev) h in
        let calm = and_parts (is_some (connection (row ∷ rows)))
        (not (bus rows).rst && not (bus (row ∷ rows)).rst) both.0 in
        let rst = and_parts (not (bus rows).rst) (not (bus (row ∷ rows)).rst) calm.1 in
        record {
          before = record { calm = not-true (bus rows).rst rst.0; stands = e };
          after = record { calm = not-true (bus (row ∷ rows)).rst rst.1; stands = stays rows row n e calm.0 };
          of_end = both.1;
        }

    go : (o : Option Connection) → connection rows ≡ o
        → IfSome (kept_if (is_calm (effect (row ∷ rows))) o row.dev) (λ n. IsKept rows row n)
    go None e = tt
    go (Some n) e = in_one n e (is_calm (effect (row ∷ rows)) && is_end n row.dev) refl
