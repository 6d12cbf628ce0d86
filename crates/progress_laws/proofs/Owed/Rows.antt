-- Row by row: to each initiator that stands in a hold its automatic REQUEST SENSE is owed.
use Rattle.progress_laws.proofs
use proofs.Names.{ℕ, ◌≡◌, Bool, true, false, not, ◌&&◌, ◌∙◌, List, [], ◌∷◌, Option, Some, None, refl, sym, ap, subst}
use proofs.Names.{inl, inr, or_from, not-true, cases_Bool, same_Some, list_any, if◌then◌else◌, ◌==◌, is_none, nat_lt, ⊤}
use proofs.Names.{Event, falls, Row, Connection, Call, Calling, ScenarioValue, step_sound, array_step, HasSeats}
use proofs.Names.{IsSound, Array, Nexus, RowReading, row_reading, row_events_by, Item, Sent, abort, count_item}
use proofs.Names.{has_item, process, sense_item, link_of, Story, story_after_event, story_after_events, aim_of}
use proofs.Names.{is_arbitration_entry, is_counted, retries_of, story_after_calling, story_after_calling_by}
use proofs.Names.{story_after_connection, story_by_change, story_on_bus, story_on_free_bus, story_with_aim}
use proofs.Names.{story_with_restored, story_with_sent, story_with_try, story_without_answer, RunState, array_of}
use proofs.Names.{or_start, array_after_events, run_state, none_some, connection_sent, AreOwed, IsOwed}
use proofs.{Owed.{Events.{EndsWell, IfOwed, other_over, step_owes}, Steps.{owed_all}}, Queues.Rows.{HasArray}}

-- ---- the change of the bus ends no automatic REQUEST SENSE

pub record Holds (b c : Sent) : Type 0 where
  pub checks : c.checks ≡ b.checks
  pub over : (m : ℕ) → has_item b.over (sense_item m) ≡ false → has_item c.over (sense_item m) ≡ false

same : (b c : Sent) → c ≡ b → Holds b c
same b c e = record {
  checks = ap (λ (x : Sent). x.checks) e;
  over = λ n z. ap (λ (x : Sent). has_item x.over (sense_item n)) e ∙ z;
}

given_up : (b : Story) (tries : List Item) (i : Item) → is_counted i ≡ true
    → Holds b.sent (story_without_answer (record b { sent = record b.sent { tries = tries } }) i).sent
given_up b tries (process id) e = record {
  checks = refl;
  over = λ n z. or_from _ (has_item b.sent.over (sense_item n)) (other_over id n (not-true id.sense e)) z;
}
given_up b tries (abort k) e = record { checks = refl; over = λ n z. z }

tried : (s : ScenarioValue) (b : Story) (dev : ℕ) (item : Option Item) → Holds b.sent (story_with_try s b dev item).sent
tried s b dev None = same b.sent b.sent refl
tried s b dev (Some item) =
    go (is_counted item) refl (nat_lt (retries_of s.hosts dev) (count_item (item ∷ b.sent.tries) item))
  where
    next : Story
    next = record b { sent = record b.sent { tries = item ∷ b.sent.tries } }

    go : (q : Bool) → is_counted item ≡ q
        → (r : Bool) → Holds b.sent (if q && r then story_without_answer next item else next).sent
    go true e true = given_up b (item ∷ b.sent.tries) item e
    go true e false = record { checks = refl; over = λ n z. z }
    go false e r = record { checks = refl; over = λ n z. z }

called : (s : ScenarioValue) (b : Story) (call : Option Call) → Holds b.sent (story_after_calling s b call).sent
called s b None = same b.sent b.sent refl
called s b (Some c) = by c.calling
  where
    by : (g : Option Calling) → Holds b.sent (story_after_calling_by s b c.caller g).sent
    by None = same b.sent b.sent refl
    by (Some g) =
        elim (cases_Bool (is_none g.answered && not g.reselects)) [
          | inl e ↦ rw e (tried s b c.caller (aim_of b.aims c.caller))
          | inr e ↦ rw e (same b.sent b.sent refl)
        ]

freed : (s : ScenarioValue) (b : Story) (d : RowReading) (row : Row) → Holds b.sent (story_on_free_bus s b d row).sent
freed s b d row = go (is_arbitration_entry b d) (falls d.change.before.sel d.change.after.sel)
  where
    go : (q r : Bool) → Holds b.sent
        (if q then story_with_aim s b row else if r then story_after_calling s b b.bus_state.call else b).sent
    go true r = same b.sent b.sent refl
    go false true = called s b b.bus_state.call
    go false false = same b.sent b.sent refl

begun : (b : Story) (n : Connection) → Holds b.sent (story_after_connection b n).sent
begun b n = go n.reselected (aim_of b.aims n.initiator)
  where
    go : (q : Bool) (item : Option Item) → Holds b.sent (if q then record b { link = Some (link_of n None) }
        else story_with_restored (story_with_sent (record b { link = Some (link_of n item) }) item) item).sent
    go true item = same b.sent b.sent refl
    go false None = same b.sent b.sent refl
    go false (Some (process id)) = record { checks = refl; over = λ n z. z }
    go false (Some (abort k)) = record { checks = refl; over = λ n z. z }

pub changed : (s : ScenarioValue) (b : Story) (d : RowReading) (row : Row)
    → Holds b.sent (story_by_change s b d row).sent
changed s b d row = by_rst d.change.after.rst
  where
    by : (x y : Option Connection) → Holds b.sent (story_on_bus s b x y d row).sent
    by None None = freed s b d row
    by None (Some n) = begun b n
    by (Some m) None = same b.sent b.sent refl
    by (Some m) (Some n) = same b.sent _ (connection_sent s b b.link d row)

    by_rst : (q : Bool) → Holds b.sent
        (if q then record b { link = None } else story_on_bus s b b.bus_state.connection d.next d row).sent
    by_rst true = same b.sent b.sent refl
    by_rst false = by b.bus_state.connection d.next

still : (s : ScenarioValue) (b c : Sent) (q : Nexus) → Holds b c → IsOwed s b q → IsOwed s c q
still s b c q h w = record {
  number = w.number;
  def = w.def;
  def_is = w.def_is;
  host_is = w.host_is;
  target_is = w.target_is;
  unit_is = w.unit_is;
  checked = ap (λ (x : List ℕ). list_any (λ k. k == w.number) x) h.checks ∙ w.checked;
  opens = h.over w.number w.opens;
}

-- ---- the events of a row

abbrev pub AllEndWell : ScenarioValue → Story → List Event → Type 0
AllEndWell s b [] = ⊤
AllEndWell s b (event ∷ shown) = EndsWell (story_after_events s b shown) event × AllEndWell s b shown

record Keeps (s : ScenarioValue) (c : Sent) (o : Option Array) : Type 0 where
  sound : (a : Array) → o ≡ Some a → IsSound s a
  owed : IfOwed s c o

events_owe : (s : ScenarioValue) (b : Story) (o : Option Array) (shown : List Event) → HasSeats s → AllEndWell s b shown
    → Keeps s b.sent o → Keeps s (story_after_events s b shown).sent (array_after_events s o shown)
events_owe s b o [] seats well e = e
events_owe s b o (event ∷ shown) seats well e =
    go (array_after_events s o shown) (events_owe s b o shown seats well.1 e)
  where
    was : Story
    was = story_after_events s b shown

    go : (x : Option Array) → Keeps s was.sent x → Keeps s (story_after_event s was event).sent (array_step s event x)
    go None h = record { sound = λ a z. none_some a z; owed = tt }
    go (Some a) h = record {
      sound = λ y z. step_sound s a y event seats (h.sound a refl) z;
      owed = step_owes s was a event (h.sound a refl) well.0 h.owed;
    }

-- ---- a row

-- An automatic REQUEST SENSE that ends with the row does so with GOOD, and none is lost with it; and that of a command
-- is not over as the command ends.
abbrev pub IsEndedWell : ScenarioValue → List Row → Row → Type 0
IsEndedWell s p row = AllEndWell s
    (story_by_change s (run_state s p).story (row_reading (run_state s p).story.bus_state row) row)
    (row_events_by s (run_state s p).story (row_reading (run_state s p).story.bus_state row) row)

pub owed_start : (s : ScenarioValue) → AreOwed s (run_state s []).story.sent (array_of s (run_state s [])).holds
owed_start s = tt

pub owed_next : (s : ScenarioValue) (p : List Row) (row : Row) → HasSeats s
    → HasArray s (run_state s p) → HasArray s (run_state s (row ∷ p)) → IsEndedWell s p row
    → AreOwed s (run_state s p).story.sent (array_of s (run_state s p)).holds
    → AreOwed s (run_state s (row ∷ p)).story.sent (array_of s (run_state s (row ∷ p))).holds
owed_next s p row seats had has well h = subst (λ (o : Option Array). AreOwed s after.sent (or_start s o).holds)
    (sym has.array_is) (subst (λ (o : Option Array). IfOwed s after.sent o) has.array_is is.owed)
  where
    k : RunState
    k = run_state s p

    d : RowReading
    d = row_reading k.story.bus_state row

    b : Story
    b = story_by_change s k.story d row

    shown : List Event
    shown = row_events_by s k.story d row

    after : Story
    after = story_after_events s b shown

    moved : AreOwed s b.sent (array_of s k).holds
    moved = owed_all s k.story.sent b.sent (array_of s k).holds
        (λ q w. still s k.story.sent b.sent q (changed s k.story d row) w) h

    was : Keeps s b.sent k.array
    was = record {
      sound = λ a e. subst (λ (x : Array). IsSound s x) (same_Some had.array a (sym had.array_is ∙ e)) had.sound;
      owed = subst (λ (o : Option Array). IfOwed s b.sent o) (sym had.array_is)
          (subst (λ (o : Option Array). AreOwed s b.sent (or_start s o).holds) had.array_is moved);
    }

    is : Keeps s after.sent (array_after_events s k.array shown)
    is = events_owe s b k.array shown seats well was
