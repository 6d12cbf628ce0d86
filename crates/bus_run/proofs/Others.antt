-- What is due of a device that is no end of the connection, while its ends make rows.
use Rattle.std.proofs.Common.{ℕ, ◌≡◌, ◌==◌, ◌<◌, ◌∙◌, Bool, true, false, List, ◌∷◌, refl, sym, ap, subst, Option, Some}
use Rattle.std.proofs.Common.{None}
use Rattle.std.specs.Prelude.{IfSome, is_some, if◌then◌else◌}
use Rattle.std.proofs.lemmas.Bool.{or_parts, true≢false}
use Rattle.bus_laws.specs.scsi_device.proofs.Finds.{some_is}
use Rattle.bus_trace.specs.LineSet.{LineSet}
use Rattle.bus_trace.specs.declared.Row.{Row}
use Rattle.bus_trace.specs.declared.connection.Connection.{Connection}
use Rattle.bus_trace.specs.Changes.{change_of}
use Rattle.bus_trace.specs.Trace.{bus, drives, driven_after}
use Rattle.bus_trace.specs.Terms.{connection}
use Rattle.scenario.specs.Value.{ScenarioValue}
use Rattle.due_model.specs.story_model.specs.Samples.{latency_of}
use Rattle.reaction_model.specs.declared.due.Due.{Due}
use Rattle.reaction_model.specs.declared.due.Myself.{Myself}
use Rattle.reaction_model.specs.Reset.{with_reset}
use Rattle.due_model.specs.Due.{self_of, reset_from, stage_due, due_if, AreOthersStill}
use Rattle.due_model.specs.Next.{due}
use Rattle.due_model.specs.Own.{Own, own_at, own_next, own_of}
use Rattle.due_model.specs.Plain.{AreOfDevices, IsPlain}
use Rattle.due_model.specs.PlainDue.{IsLinked}
use Rattle.due_model.specs.RunState.{RunState, bus_of}
use Rattle.due_model.specs.RunSteps.{run_state}
use Rattle.due_model.proofs.Plains.{run_state_plain}
use Rattle.bus_run.specs.Away.{due_besides, IsAway, IsAwayIf}
use Rattle.bus_run.specs.Standing.{is_end, IsKept}
use Rattle.bus_run.specs.declared.away.Away.{Away}
use Rattle.bus_run.proofs.Seams.{not_same}
use Rattle.bus_run.proofs.Sooner.{least_same}

-- ---- any device in a connection of others

-- RST alone: by what it drives, and by its own rows.
abbrev reset_alone : ScenarioValue → ℕ → Option ℕ → LineSet → Own → Option Due
reset_alone s dev None own o = None
reset_alone s dev (Some latency) own o = with_reset
    (let me : Myself = record { dev = dev; latency = latency; own = own; since = o.row } in me) o.rst
    (reset_from dev o.released s.resets) None

alone : AreOthersStill → (s : ScenarioValue) (rows : List Row) (n : Connection) (dev : ℕ)
    → AreOfDevices rows → IsLinked rows n → dev < 8 → is_end n dev ≡ false → (latency : Option ℕ)
    → due_if s (run_state s rows) dev latency ≡ reset_alone s dev latency (drives rows dev) (own_of rows dev)
alone others s rows n dev d g lt x None = refl
alone others s rows n dev d g lt x (Some latency) =
    (λ j. with_reset me (own_at k.owns dev).rst reset (stage_due s k me (rst j) ((p.connection ∙ g.stands) j)))
    ∙ ap (λ (calm : Option Due). with_reset me (own_at k.owns dev).rst reset calm) (others s k me n neither.0 neither.1)
    ∙ (λ j. with_reset (let it : Myself = record {
      dev = dev;
      latency = latency;
      own = p.drives dev lt j;
      since = (p.own dev lt j).row;
    } in it) (p.own dev lt j).rst (reset_from dev (p.own dev lt j).released s.resets) None)
  where
    k : RunState
    k = run_state s rows

    me : Myself
    me = self_of k dev latency

    p : IsPlain s rows k
    p = run_state_plain s rows d

    reset : Option ℕ
    reset = reset_from dev (own_at k.owns dev).released s.resets

    rst : (bus_of k).rst ≡ false
    rst = (λ i. (p.bus i).rst) ∙ g.calm

    neither : ((n.initiator == dev) ≡ false) × ((n.target == dev) ≡ false)
    neither = or_parts (n.initiator == dev) (n.target == dev) x

-- ---- a row of an end

kept_due : AreOthersStill → (s : ScenarioValue) (rows : List Row) (row : Row) (n : Connection) (dev : ℕ)
    → AreOfDevices (row ∷ rows) → IsKept rows row n → dev < 8 → is_end n dev ≡ false
    → due s rows dev ≡ due s (row ∷ rows) dev
kept_due others s rows row n dev d k lt x =
    alone others s rows n dev d.1 k.before lt x (latency_of s dev)
    ∙ (λ j. reset_alone s dev (latency_of s dev) (same_lines j) (same_own j))
    ∙ sym (alone others s (row ∷ rows) n dev d k.after lt x (latency_of s dev))
  where
    apart : (row.dev == dev) ≡ false
    apart = not_same row.dev dev (λ e. true≢false (sym k.of_end ∙ ap (λ (i : ℕ). is_end n i) e ∙ x))

    same_lines : drives rows dev ≡ drives (row ∷ rows) dev
    same_lines = ap (λ (q : Bool). if q then driven_after row.kind (drives rows dev) else drives rows dev) (sym apart)

    same_own : own_of rows dev ≡ own_of (row ∷ rows) dev
    same_own = ap
        (λ (q : Bool). if q then own_next row.kind (own_of rows dev) (change_of rows row) row.time else own_of rows dev)
        (sym apart)

besides_kept : AreOthersStill → (s : ScenarioValue) (rows : List Row) (row : Row) (n : Connection)
    → AreOfDevices (row ∷ rows) → IsKept rows row n → (dev : ℕ) → dev < 8
    → due_besides (Some n) (due s rows) dev ≡ due_besides (Some n) (due s (row ∷ rows)) dev
besides_kept others s rows row n d k dev lt = go (is_end n dev) refl
  where
    go : (q : Bool) → is_end n dev ≡ q
        → (if q then None else due s rows dev) ≡ (if q then None else due s (row ∷ rows) dev)
    go true e = refl
    go false e = kept_due others s rows row n dev d k lt e

away_kept : AreOthersStill → (s : ScenarioValue) (rows : List Row) (row : Row) (n : Connection) (a : Away)
    → AreOfDevices (row ∷ rows) → IsKept rows row n → IsAway s rows a → IsAway s (row ∷ rows) a
away_kept others s rows row n a d k h =
    let same : n ≡ a.connection = some_is n a.connection (sym k.before.stands ∙ h.linked.stands) in
    let here : IsKept rows row a.connection = subst (λ (m : Connection). IsKept rows row m) same k in
    record {
      linked = here.after;
      first = h.first ∙ least_same (due_besides (Some a.connection) (due s rows))
          (due_besides (Some a.connection) (due s (row ∷ rows))) 8 (besides_kept others s rows row a.connection d here);
    }

pub stays_known :
    AreOthersStill → (s : ScenarioValue) (rows : List Row) (row : Row) (kept : Option Connection) (away : Option Away)
    → is_some kept ≡ true → IfSome kept (λ n. IsKept rows row n) → AreOfDevices (row ∷ rows) → IsAwayIf s rows away
    → IsAwayIf s (row ∷ rows) away
stays_known others s rows row kept None e k d h = tt
stays_known others s rows row None (Some a) e k d h = absurd cc
stays_known others s rows row (Some n) (Some a) e k d h = away_kept others s rows row n a d k h

-- ---- the connection that stands

pub linked_if : (rows : List Row) (n : Option Connection) → n ≡ connection rows → (bus rows).rst ≡ false
    → IfSome n (λ m. IsLinked rows m)
linked_if rows None e r = tt
linked_if rows (Some n) e r = record { calm = r; stands = sym e }
