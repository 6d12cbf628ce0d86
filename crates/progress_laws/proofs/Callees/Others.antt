-- A device calls another of the eight: an initiator the target of its item, a target the initiator of the process that
-- it has ready.
use Rattle.progress_laws.proofs
use proofs.Names.{ℕ, ◌≡◌, ◌≢◌, ◌<◌, Bool, true, false, ◌∙◌, List, Option, Some, None, refl, sym, ap, subst, inl, inr}
use proofs.Names.{cases_Bool, same_Some, none-some, if◌then◌else◌, ProcId, Row, Connection, ScenarioValue, CmdDef}
use proofs.Names.{Process, command_at, process_by, process_if, process_of, sense_process, command_process, is_initiator}
use proofs.Names.{Item, aim_of, Ready, AreOfDevices, run_state, abort_target, initiator_if, ready_of, target_if}
use proofs.Names.{target_of, abort_fits, command_fits, seats_are, units_are, FitsBus, aims_are, reselects_by, IsItem}
use proofs.{Names.{is_process, IsReadyFor, callee_at, own_units}, Quiet.Apart.{IsBound}}
use Rattle.trace_laws.specs.book_laws.specs.Items.{is_abort}

-- ---- the two ends of a process

pub record HasTwoEnds (s : ScenarioValue) (initiator target : ℕ) : Type 0 where
  pub initiator_below : initiator < 8
  pub target_below : target < 8
  pub host : is_initiator s.hosts initiator ≡ true
  pub none : is_initiator s.hosts target ≡ false

command_ends : (s : ScenarioValue) (id : ProcId) (c : CmdDef) → HasTwoEnds s c.host c.target
    → HasTwoEnds s (process_by s id c).initiator (process_by s id c).target
command_ends s id c h = elim (cases_Bool id.sense) [ inl e ↦ rw e h | inr e ↦ rw e h ]

process_ends : (s : ScenarioValue) (id : ProcId) (t : Process) → FitsBus s → process_of s id ≡ Some t
    → HasTwoEnds s t.initiator t.target
process_ends s id t fits e = go (command_at s.commands id.command) refl
  where
    go : (o : Option CmdDef) → command_at s.commands id.command ≡ o → HasTwoEnds s t.initiator t.target
    go None z = absurd (none-some t (sym (ap (process_if s id) z) ∙ e))
    go (Some c) z =
        let line = command_fits s id.command c fits z in
        subst (λ (x : Process). HasTwoEnds s x.initiator x.target)
        (same_Some (process_by s id c) t (sym (ap (process_if s id) z) ∙ e)) (command_ends s id c (record {
          initiator_below = line.host;
          target_below = line.target;
          host = line.host_is;
          none = line.target_is;
        }))

pub are_apart : (s : ScenarioValue) (a b : ℕ) → is_initiator s.hosts a ≡ true → is_initiator s.hosts b ≡ false → a ≢ b
are_apart s a b e f same = let z = sym e ∙ ap (is_initiator s.hosts) same ∙ f in cc

-- ---- an initiator, by its aim

item_bound : (s : ScenarioValue) (p : List Row) (c : ℕ) (item : Item) → FitsBus s → is_initiator s.hosts c ≡ true
    → target_of s (aim_of (run_state s p).story.aims c) ≡ target_of s (Some item) → IsItem s c item → IsBound s p c
item_bound s p c item fits host e (is_process id pr found own) =
    let ends = process_ends s id pr fits found in
    record {
      other = pr.target;
      is = ap (λ (q : Bool). if q then target_of s (aim_of (run_state s p).story.aims c)
          else initiator_if (ready_of s (run_state s p) c)) host
          ∙ e ∙ ap target_if found;
      below = ends.target_below;
      apart = are_apart s c pr.target host ends.none;
    }
item_bound s p c item fits host e (is_abort n a found own) =
    let line = abort_fits s n a fits found in
    record {
      other = a.target;
      is = ap (λ (q : Bool). if q then target_of s (aim_of (run_state s p).story.aims c)
          else initiator_if (ready_of s (run_state s p) c)) host
          ∙ e ∙ ap abort_target found;
      below = line.target;
      apart = are_apart s c a.target host line.target_is;
    }

pub aim_bound : (s : ScenarioValue) (p : List Row) (c : ℕ) (item : Item) → FitsBus s → is_initiator s.hosts c ≡ true
    → aim_of (run_state s p).story.aims c ≡ Some item → IsBound s p c
aim_bound s p c item fits host e = item_bound s p c item fits host (ap (target_of s) e) (aims_are s p c item e)

-- ---- a target, by what it has ready

pub ready_bound : (s : ScenarioValue) (p : List Row) (c : ℕ) (r : Ready) → FitsBus s → AreOfDevices p
    → is_initiator s.hosts c ≡ false → ready_of s (run_state s p) c ≡ Some r → IsBound s p c
ready_bound s p c r fits dv host e =
    let n : Connection = record { initiator = r.process.initiator; target = c; began = 0; reselected = true } in
    let called : callee_at s p c ≡ Some r.process.initiator = ap (λ (q : Bool).
    if q then target_of s (aim_of (run_state s p).story.aims c) else initiator_if (ready_of s (run_state s p) c)) host
    ∙ ap initiator_if e in
    let w : IsReadyFor s (run_state s p) n = reselects_by s (run_state s p) n
    (units_are s fits) (own_units s p (seats_are s fits) dv) host called in
    let ends = process_ends s w.ready.process.id w.process fits w.process_is in
    record {
      other = r.process.initiator;
      is = called;
      below = subst (λ (m : ℕ). m < 8) w.initiator_is ends.initiator_below;
      apart = λ same. are_apart s r.process.initiator c
          (ap (is_initiator s.hosts) (sym w.initiator_is) ∙ ends.host) host (sym same);
    }
