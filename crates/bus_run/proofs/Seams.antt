-- The parts of what rows tie.
use Rattle.std.proofs.Common.{ℕ, ◌≡◌, Bool, true, false, List, [], ◌∷◌, Option, Some, refl, sym, ap, subst, ◌∙◌}
use Rattle.std.specs.Prelude.{◌==◌, ◌&&◌, is_some}
use Rattle.std.proofs.lemmas.Bool.{and_parts, and_from, true≢false, eqb-true}
use Rattle.bus_trace.specs.declared.Row.{Row}
use Rattle.bus_trace.specs.declared.connection.Connection.{Connection}
use Rattle.bus_trace.specs.Terms.{connection}
use Rattle.scenario.specs.declared.value.HostDef.{HostDef}
use Rattle.scenario.specs.declared.value.TargetDef.{TargetDef}
use Rattle.scenario.specs.Value.{ScenarioValue}
use Rattle.due_model.specs.Allowed.{allowed, is_allowed}
use Rattle.due_model.specs.Defs.{host_of, target_def_of}
use Rattle.due_model.specs.Faithful.{faithful, is_faithful}
use Rattle.due_model.specs.RunSteps.{run_state}
use Rattle.due_model.specs.Telling.{telling, is_true_telling}
use Rattle.bus_laws.specs.scsi_device.specs.Heard.{heard, is_heard_after, instructions}
use Rattle.bus_laws.specs.scsi_device.specs.Lines.{IsHostLine, IsTargetLine}
use Rattle.bus_laws.specs.scsi_device.specs.Writes.{written, is_written, writers}
use Rattle.disk_target.specs.Attended.{attended, is_attended}
use Rattle.bus_run.specs.Seams.{is_own_pair, paired, seams}
use Rattle.bus_run.specs.Shown.{reading}

-- What a row more is to fulfil.
abbrev pub is_attended_after : ScenarioValue → List Row → Row → Bool
is_attended_after s rows row =
    is_attended s (run_state s rows) row (reading s rows row) (instructions s rows) (writers s rows)

pub record AreTied (s : ScenarioValue) (rows : List Row) : Type 0 where
  pub faithful_are : faithful s rows ≡ true
  pub telling_are : telling s rows ≡ true
  pub allowed_are : allowed s rows ≡ true
  pub paired_are : paired s rows ≡ true
  pub heard_are : heard s rows ≡ true
  pub written_are : written s rows ≡ true
  pub attended_are : attended s rows ≡ true

pub tied : (s : ScenarioValue) (rows : List Row) → seams s rows ≡ true → AreTied s rows
unfolding seams
tied s rows e =
    let one = and_parts (faithful s rows) (telling s rows
    && (allowed s rows && (paired s rows && (heard s rows && (written s rows && attended s rows))))) e in
    let two = and_parts (telling s rows)
    (allowed s rows && (paired s rows && (heard s rows && (written s rows && attended s rows)))) one.1 in
    let three = and_parts (allowed s rows)
    (paired s rows && (heard s rows && (written s rows && attended s rows))) two.1 in
    let four = and_parts (paired s rows) (heard s rows && (written s rows && attended s rows)) three.1 in
    let five = and_parts (heard s rows) (written s rows && attended s rows) four.1 in
    let six = and_parts (written s rows) (attended s rows) five.1 in
    record {
      faithful_are = one.0;
      telling_are = two.0;
      allowed_are = three.0;
      paired_are = four.0;
      heard_are = five.0;
      written_are = six.0;
      attended_are = six.1;
    }

pub untied : (s : ScenarioValue) (rows : List Row) → AreTied s rows → seams s rows ≡ true
unfolding seams
untied s rows t = and_from (faithful s rows)
    (telling s rows && (allowed s rows && (paired s rows && (heard s rows && (written s rows && attended s rows)))))
    t.faithful_are (and_from (telling s rows)
    (allowed s rows && (paired s rows && (heard s rows && (written s rows && attended s rows)))) t.telling_are
    (and_from (allowed s rows) (paired s rows && (heard s rows && (written s rows && attended s rows))) t.allowed_are
    (and_from (paired s rows) (heard s rows && (written s rows && attended s rows)) t.paired_are
    (and_from (heard s rows) (written s rows && attended s rows) t.heard_are
    (and_from (written s rows) (attended s rows) t.written_are t.attended_are)))))

pub tied_before : (s : ScenarioValue) (rows : List Row) (row : Row) → seams s (row ∷ rows) ≡ true → seams s rows ≡ true
tied_before s rows row e =
    let t = tied s (row ∷ rows) e in
    untied s rows (record {
      faithful_are =
          (and_parts (faithful s rows) (is_faithful s (run_state s rows) (reading s rows row)) t.faithful_are).0;
      telling_are =
          (and_parts (telling s rows) (is_true_telling s (run_state s rows) row (reading s rows row)) t.telling_are).0;
      allowed_are =
          (and_parts (allowed s rows) (is_allowed s (run_state s rows) row (reading s rows row)) t.allowed_are).0;
      paired_are = (and_parts (paired s rows) (is_own_pair s (connection (row ∷ rows))) t.paired_are).0;
      heard_are = (and_parts (heard s rows) (is_heard_after s (run_state s rows) (run_state s (row ∷ rows))
          (reading s rows row) (instructions s (row ∷ rows))) t.heard_are).0;
      written_are = (and_parts (written s rows)
          (is_written s (run_state s rows) row (reading s rows row) (writers s rows)) t.written_are).0;
      attended_are = (and_parts (attended s rows) (is_attended_after s rows row) t.attended_are).0;
    })

pair_of : (s : ScenarioValue) (rows : List Row) → paired s rows ≡ true → is_own_pair s (connection rows) ≡ true
pair_of s [] e = refl
pair_of s (row ∷ rows) e = (and_parts (paired s rows) (is_own_pair s (connection (row ∷ rows))) e).1

pub ends_are : (s : ScenarioValue) (rows : List Row) (n : Connection) → seams s rows ≡ true → connection rows ≡ Some n
    → (is_some (host_of s n.initiator) ≡ true) × (is_some (target_def_of s n.target) ≡ true)
ends_are s rows n e c =
    let pair : is_own_pair s (Some n) ≡ true = subst
    (λ (o : Option Connection). is_own_pair s o ≡ true) c (pair_of s rows (tied s rows e).paired_are) in
    and_parts (is_some (host_of s n.initiator)) (is_some (target_def_of s n.target)) pair

pub not_same : (m dev : ℕ) → (m ≡ dev → ⊥) → (m == dev) ≡ false
not_same m dev f = go (m == dev) refl
  where
    go : (q : Bool) → (m == dev) ≡ q → q ≡ false
    go true e = absurd (f (eqb-true m dev e))
    go false e = refl

pub not_called : (s : ScenarioValue) (rows : List Row) (h : HostDef) (n : Connection) → IsHostLine s h
    → seams s rows ≡ true → connection rows ≡ Some n → (n.target == h.dev) ≡ false
not_called s rows h n line e c = not_same n.target h.dev (λ same. true≢false (sym (ends_are s rows n e c).1
    ∙ (λ i. is_some (target_def_of s (same i))) ∙ ap (λ (o : Option TargetDef). is_some o) line.no_target))

pub not_calling : (s : ScenarioValue) (rows : List Row) (t : TargetDef) (n : Connection) → IsTargetLine s t
    → seams s rows ≡ true → connection rows ≡ Some n → (n.initiator == t.dev) ≡ false
not_calling s rows t n line e c = not_same n.initiator t.dev (λ same. true≢false (sym (ends_are s rows n e c).0
    ∙ (λ i. is_some (host_of s (same i))) ∙ ap (λ (o : Option HostDef). is_some o) line.no_host))
