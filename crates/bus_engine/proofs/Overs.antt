-- Devices of a run that is over.
use Rattle.std.proofs.Common.{ℕ, ◌≡◌, ◌≢◌, ◌≤◌, ◌+◌, Bool, true, false, List, [], ◌∷◌, Option, Some, None, refl, sym}
use Rattle.std.proofs.Common.{ap, subst, ◌∙◌, arith}
use Rattle.std.specs.Prelude.{◌==◌, ◌||◌, slice_set, slice_index_or, if◌then◌else◌}
use Rattle.std.specs.List.{find}
use Rattle.std.proofs.lemmas.Bool.{eq-eqb, true≢false}
use Rattle.std.proofs.lemmas.Grind.{common_steps, elements}
use Rattle.bus_trace.specs.declared.Row.{Row}
use Rattle.scenario.specs.declared.value.CmdDef.{CmdDef}
use Rattle.scenario.specs.declared.value.HostDef.{HostDef}
use Rattle.scenario.specs.declared.value.TargetDef.{TargetDef}
use Rattle.scenario.specs.Value.{ScenarioValue}
use Rattle.array_model.specs.Processes.{command_at}
use Rattle.array_model.specs.Seats.{is_initiator}
use Rattle.due_model.specs.story_model.specs.Samples.{host_latency, target_latency, latency_of}
use Rattle.due_model.specs.story_model.specs.Items.{sense_id, command_id}
use Rattle.due_model.specs.Defs.{host_of, target_def_of}
use Rattle.due_model.specs.RunState.{array_of}
use Rattle.due_model.specs.RunSteps.{run_state}
use Rattle.initiator.specs.initiator_books.specs.Books.{my_book}
use Rattle.initiator.specs.initiator_books.specs.Endings.{AreEndingsOf, end_at}
use Rattle.initiator.specs.Hosts.{HostValue}
use Rattle.initiator.specs.initiator_books.specs.Openings.{mine_at}
use Rattle.initiator.specs.Outcomes.{is_sense_over}
use Rattle.initiator.specs.Received.{BufferPairValue, no_buffers, empty_buffer, pair_at, received_taken, undoes_no_byte}
use Rattle.delivery_laws.specs.target_units.specs.Units.{UnitsState, AreUnitsOf}
use Rattle.bus_engine.specs.declared.member.Member.{Member}
use Rattle.bus_engine.specs.declared.member.Member.TheVariants.{Initiator, Target}
use Rattle.disk_target.specs.Targets.{TargetValue}
use Rattle.bus_run.specs.Places.{IsIn}
use Rattle.bus_engine.specs.Answers.{is_answered, sense_is_over}
use Rattle.bus_engine.specs.Members.{IsHost, IsTarget, IsMember}
use Rattle.bus_engine.specs.Over.{IsHostOver, IsMemberOver, HasNone, IsPlaceOver, AreUnitsAt}
use Rattle.bus_engine.proofs.HeldAnswers.{IsAnswered, answered}

-- ---- which device it is

pub initiator_over : (s : ScenarioValue) (rows : List Row) (dev first : ℕ) (m : Member) (host : HostValue)
    → m ≡ Initiator host → IsMemberOver s rows dev first m → IsHostOver s rows dev first host
initiator_over s rows dev first m host e h = subst (λ (x : Member). IsMemberOver s rows dev first x) e h

pub target_over : (s : ScenarioValue) (rows : List Row) (dev first : ℕ) (m : Member) (target : TargetValue)
    → m ≡ Target target → IsMemberOver s rows dev first m → IsTarget s rows dev target
target_over s rows dev first m target e h = subst (λ (x : Member). IsMemberOver s rows dev first x) e h

-- ---- an outcome that is taken

pub taken_is_answered : (s : ScenarioValue) (rows : List Row) (dev n : ℕ) (c : CmdDef) (v : HostValue)
    → IsHostOver s rows dev n v → command_at s.commands n ≡ Some c → c.host ≡ dev
    → undoes_no_byte s rows ≡ true → is_answered s (run_state s rows).story n c ≡ true
    → IsAnswered s (run_state s rows).story n (end_at v.endings n) (is_sense_over (mine_at v.intent.wish.book.mines n))
    (pair_at v.received n).command.bytes (pair_at v.received n).sense.bytes
taken_is_answered s rows dev n c v h e own undone is =
    let kept = h.kept undone n c (omega arith) e (eq-eqb c.host dev own) in
    let over : is_sense_over (mine_at v.intent.wish.book.mines n) ≡ sense_is_over s (run_state s rows).story n c =
    λ i. is_sense_over
    (mine_at ((h.book_is ∙ ap (λ (d : ℕ). my_book s (run_state s rows).story.sent d) (sym own)) i).mines n) in
    answered s (run_state s rows).story n c (end_at v.endings n) (is_sense_over (mine_at v.intent.wish.book.mines n))
    (pair_at v.received n).command.bytes (pair_at v.received n).sense.bytes
    (h.endings_are.ends n c e (eq-eqb c.host dev own)) over kept.bytes.bytes_are kept.sense_bytes.bytes_are is

other_pair : (v : List BufferPairValue) (k n : ℕ) (x : BufferPairValue) → k ≢ n
    → slice_index_or (slice_set v k x) n no_buffers ≡ slice_index_or v n no_buffers
other_pair v k n x h = grind (arith, common_steps, elements)

pair_stays : (q : Bool) (v : List BufferPairValue) (k n : ℕ) → k ≢ n
    → pair_at (if q then received_taken v k else v) n ≡ pair_at v n
pair_stays true v k n h = other_pair v k n (record (pair_at v k) { command = empty_buffer 0 }) h
pair_stays false v k n h = refl

pub host_goes_on : (s : ScenarioValue) (rows : List Row) (dev first k : ℕ) (q : Bool) (v w : HostValue)
    → w ≡ record v { received = if q then received_taken v.received k else v.received } → first ≤ k + 1
    → IsHostOver s rows dev first v → IsHostOver s rows dev (k + 1) w
host_goes_on s rows dev first k q v w e le h =
    subst (λ (x : HostValue). IsHostOver s rows dev (k + 1) x) (sym e) (record {
      no_target = h.no_target;
      named = h.named;
      endings_are = h.endings_are;
      book_is = h.book_is;
      kept = λ undone n c low is own.
          let old = h.kept undone n c (omega (arith, le, low)) is own in
          let pair : pair_at (if q then received_taken v.received k else v.received) n ≡ pair_at v.received n =
          pair_stays q v.received k n (λ (same : k ≡ n). omega (arith, same, low)) in
          record {
            bytes = record {
              room_is = ap (λ (p : BufferPairValue). p.command.room) pair ∙ old.bytes.room_is;
              bytes_are = ap (λ (p : BufferPairValue). p.command.bytes) pair ∙ old.bytes.bytes_are;
            };
            sense_bytes = record {
              room_is = ap (λ (p : BufferPairValue). p.sense.room) pair ∙ old.sense_bytes.room_is;
              bytes_are = ap (λ (p : BufferPairValue). p.sense.bytes) pair ∙ old.sense_bytes.bytes_are;
            };
          };
    })

pub no_initiator : (s : ScenarioValue) (rows : List Row) (dev : ℕ) (target : TargetValue) → IsTarget s rows dev target
    → is_initiator s.hosts dev ≡ true → ⊥
no_initiator s rows dev target h is =
    true≢false (sym is ∙ ap (λ (d : ℕ). is_initiator s.hosts d) (sym h.named) ∙ h.after.knows.line.is_none)

-- ---- its units

pub units_at : (s : ScenarioValue) (rows : List Row) (dev : ℕ) (target : TargetValue) (units : UnitsState)
    → IsTarget s rows dev target → units ≡ target.units
    → AreUnitsOf s (array_of s (run_state s rows)) (run_state s rows).current_since target.def.dev units.units
    → AreUnitsAt s rows dev units
units_at s rows dev target units h e are = record {
  named = ap (λ (u : UnitsState). u.dev) e ∙ h.after.knows.units_dev ∙ h.named;
  units_are = subst (λ (d : ℕ). AreUnitsOf s (array_of s (run_state s rows))
      (run_state s rows).current_since d units.units) h.named are;
}

-- ---- as the run ends

none_any : (hosts : List HostDef) (dev : ℕ) → find (λ (h : HostDef). h.dev == dev) hosts ≡ None
    → is_initiator hosts dev ≡ false
none_any [] dev e = refl
none_any (h ∷ hosts) dev e = go (none_any hosts dev) (h.dev == dev) e
  where
    go : (find (λ (h : HostDef). h.dev == dev) hosts ≡ None → is_initiator hosts dev ≡ false)
        → (q : Bool) → (if q then Some h else find (λ (h : HostDef). h.dev == dev) hosts) ≡ None
        → (q || is_initiator hosts dev) ≡ false
    go more true e = absurd cc
    go more false e = more e

no_latency : (t : Option TargetDef) (h : Option HostDef) → target_latency t (host_latency h) ≡ None
    → (t ≡ None) × (h ≡ None)
no_latency (Some t) h e = absurd cc
no_latency None (Some h) e = absurd cc
no_latency None None e = (refl, refl)

none_over : (s : ScenarioValue) (dev : ℕ) → latency_of s dev ≡ None → HasNone s dev
none_over s dev e =
    let none = no_latency (target_def_of s dev) (host_of s dev) e in
    record { no_host = none_any s.hosts dev none.1; no_target = none.0 }

host_over : (s : ScenarioValue) (rows : List Row) (dev : ℕ) (v : HostValue) → IsHost s rows dev v
    → IsHostOver s rows dev 0 v
host_over s rows dev v h = record {
  no_target = ap (λ (d : ℕ). target_def_of s d) (sym h.named) ∙ h.after.line.no_target;
  named = h.named;
  endings_are = subst (λ (d : ℕ). AreEndingsOf s rows d v.endings) h.named h.after.endings_are;
  book_is = h.after.intent_is.wish_is.book_is
      ∙ ap (λ (d : ℕ). my_book s (run_state s rows).story.sent d) (h.after.intent_dev ∙ h.named);
  kept = λ undone n c low is own.
      let mine : (c.host == v.def.dev) ≡ true = ap (λ (d : ℕ). c.host == d) h.named ∙ own in
      record {
        bytes = (h.after.received_is undone).buffers (command_id n) c is mine;
        sense_bytes = (h.after.received_is undone).buffers (sense_id n) c is mine;
      };
}

pub place_over : (s : ScenarioValue) (rows : List Row) (dev : ℕ) (place : Option Member)
    → IsIn IsMember s rows dev place → IsPlaceOver s rows dev 0 place
place_over s rows dev None h = none_over s dev h
place_over s rows dev (Some (Initiator host)) h = host_over s rows dev host h
place_over s rows dev (Some (Target target)) h = h
