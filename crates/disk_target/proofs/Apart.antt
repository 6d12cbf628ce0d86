-- A target in a connection of others and in one of its own, and what it does by the connection that stands.
use Rattle.std.proofs.Common.{ℕ, ◌≡◌, ◌∙◌, ◌==◌, Bool, true, false, List, ◌∷◌, refl, sym, Option, Some, None}
use Rattle.std.specs.Prelude.{not}
use Rattle.std.proofs.lemmas.Bool.{and_parts, not-true}
use Rattle.bus_trace.specs.declared.Row.{Row}
use Rattle.bus_trace.specs.declared.connection.Connection.{Connection}
use Rattle.bus_trace.specs.Changes.{change_of}
use Rattle.bus_trace.specs.Terms.{connection}
use Rattle.bus_trace.specs.Trace.{bus}
use Rattle.scenario.specs.declared.value.FaultDef.{FaultDef}
use Rattle.scenario.specs.declared.value.TargetDef.{TargetDef}
use Rattle.reaction_model.specs.declared.due.Due.{Due}
use Rattle.target_course.specs.scsi_device.proofs.Finds.{some_is}
use Rattle.target_course.specs.scsi_device.specs.Told.{Told}
use Rattle.target_course.specs.Dues.{calm_by, connected_by, link_by}
use Rattle.target_course.specs.States.{IsOwnConnection, TargetState}
use Rattle.disk_target.specs.Bytes.{IsOthers, StandsInOwn, are_own, stands_calm}

-- In a connection of others it stands in none of its own.
pub never_own : (rows : List Row) (dev : ℕ) (m x : Connection) → IsOthers rows dev m → IsOwnConnection rows dev x → ⊥
never_own rows dev m x others own =
    let same = some_is _ _ (sym own.stands ∙ others.stands) in
    let bad : true ≡ false = sym own.own ∙ (λ i. (same i).target == dev) ∙ others.away in
    absurd cc

-- A connection of its own stood before a row, and one stands after it.
pub in_own : (rows : List Row) (row : Row) (dev : ℕ) (o p : Option Connection) → connection rows ≡ o
    → connection (row ∷ rows) ≡ p → are_own o p (change_of rows row) dev ≡ true → StandsInOwn rows row dev
in_own rows row dev (Some m) (Some n) was is e =
    let two = and_parts (m.target == dev) (not (bus rows).rst) e in
    record {
      before = m;
      after = n;
      own = record { stands = was; own = two.0 };
      calm = not-true (bus rows).rst two.1;
      stands = is;
    }
in_own rows row dev (Some m) None was is e = absurd cc
in_own rows row dev None p was is e = absurd cc

-- ---- by the connection that stands while RST is false

pub calm_at : (rst : Bool) (o : Option Connection) (n : Connection) → stands_calm rst o ≡ Some n
    → (o ≡ Some n) × (rst ≡ false)
calm_at true o n e = absurd cc
calm_at false o n e = (e, refl)

abbrev pub calm_in : TargetDef → Told → Option FaultDef → TargetState → Option Connection → Option Due
calm_in d t f i None = link_by d t f i
calm_in d t f i (Some n) = connected_by d t f i n

pub calm_is : (d : TargetDef) (t : Told) (f : Option FaultDef) (i : TargetState) (rst : Bool) (n : Option Connection)
    → calm_in d t f i (stands_calm rst n) ≡ calm_by d t f i rst n
calm_is d t f i true n = refl
calm_is d t f i false None = refl
calm_is d t f i false (Some n) = refl
