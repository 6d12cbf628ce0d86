-- What a row with which the phase changes makes of what is kept of the process that is served.
use Rattle.story_laws.proofs
use proofs.Names.{ℕ, ◌≡◌, ◌⊎◌, inl, inr, ◌+◌, ◌*◌, ◌≤◌, Bool, true, false, ◌&&◌, ◌||◌, ◌∙◌, List, [], ◌∷◌, length}
use proofs.Names.{Option, Some, None, refl, sym, ap, subst, arith, true≢false, ◌==◌, if◌then◌else◌, is_some, nat_lt}
use proofs.Names.{◌-◌, ProcId, rises, changes_phase, is_fault, receiver_in, Kind, Drives, Fault, Row, Change}
use proofs.Names.{Connection, no_handshakes, handshakes_after, answered_if, asked_if, MsgIn, ScenarioValue, Policy}
use proofs.Names.{Process, carried_id, fault_link, RowReading, CarriedBytes, carried_of, is_status_phase, carried_if}
use proofs.Names.{link_events, phase_events, is_completion, end_events, Item, process, Link, Story, story_after_events}
use proofs.Names.{story_after_fault, story_in_connection, Exchange, one_message, bytes_of_messages, message_bytes}
use proofs.Names.{from_byte, phase_of, one_if, plan_in_phase, Messages, Next, Task, ProcessProgress, progress_in}
use proofs.Names.{progress_with, RunState, bus_of, carried_here, process_served, run_state_after, progress_after}
use proofs.Names.{progress_by_leaving, leaving_of, hearing_of, leaving, serving_of, InConnection, in_connection}
use proofs.Names.{reading_is, self_id, link_after, IsNoName, IsRowIn, reading_in, some_count, is_marked, OnUndo}
use proofs.Names.{IsPlainIn, run_policy, run_start, run_step, PointersIn, PointersRefused, IsOfStatus, calm, restores}
use proofs.Names.{saves, saved, closes, still_calm, restores_again, saves_again, disconnects_again, closes_again}
use proofs.{Names.{disconnects}, Pointers.{Leavings.{MovesBy}, Steps.{fault_story}, Stories.{SamePointers, same_on}}}
use proofs.{Pointers.Stories.{events_same, status_marks, story_row}, Talks.Turns.{from_named}}

-- ---- ATN is true after MESSAGE IN

below_one : (m : ℕ) → 1 ≤ m → m ≤ 1 → m - 1 ≡ 0
below_one m h e = omega (arith, h, e)

-- A message alone comes again.
lone_again : (m : Messages) (x : MsgIn) (count : ℕ) → m ≡ one_message x → length (message_bytes (Some x)) ≡ 1
    → length (bytes_of_messages (one_message x)) ≡ 1 → (count == 0) ≡ false → count ≤ length (bytes_of_messages m)
    → from_byte m (count - 1) ≡ m
lone_again m x count e one all asked within =
    let few : count ≤ 1 = subst (λ (y : ℕ). count ≤ y)
    (ap (λ (y : Messages). length (bytes_of_messages y)) e ∙ all) within in
    (λ i. from_byte (e i) (below_one count (some_count count asked) few i))
    ∙ (λ i. if nat_lt 0 (one i) then one_message x else record { first = None; second = None }) ∙ sym e

zero_asked : {A : Type 0} (m : ℕ) → m ≡ 0 → (m == 0) ≡ false → A
zero_asked m z e = absurd (true≢false (sym (ap (λ (x : ℕ). x == 0) z) ∙ e))

pub refused_from : (policy : Policy) (l : Link) (c : CarriedBytes) (m : Messages) (next : Next) (count start : ℕ)
    → (count == 0) ≡ false → count ≤ length (bytes_of_messages m) → PointersIn policy l c m next count start
    → PointersRefused policy l c (from_byte m (count - 1)) next start
refused_from policy l c m next count start asked within (calm h) = still_calm (record {
  here = h.here;
  undone = h.undone;
  plain = elim h.plain [
    | inl z ↦ inl (z.0, z.1, from_named IsPlainIn m (count - 1) z.2)
    | inr z ↦ inr (z.0, from_named IsNoName m (count - 1) z.1)
  ];
})
refused_from policy l c m next count start asked within (restores em en u e w) = go w
  where
    go : (count ≡ 0) ⊎ ((c.moved.active ≡ start) × OnUndo (λ (u : CarriedBytes). u.moved.saved ≡ start) l.undo)
        → PointersRefused policy l c (from_byte m (count - 1)) next start
    go (inl z) = zero_asked count z asked
    go (inr z) = restores_again (lone_again m MsgIn.RestorePointers count em refl refl asked within ∙ em) en u e z.1
refused_from policy l c m next count start asked within (saves em en u z e) = zero_asked count z asked
refused_from policy l c m next count start asked within (saved em en u b z e w) =
    saves_again ((λ i. from_byte (em i) (z i - 1))) en u b e.active w
refused_from policy l c m next count start asked within (disconnects em en e w) = go w
  where
    go : (count ≡ 0) ⊎ OnUndo (λ (u : CarriedBytes). u.moved.saved ≡ start) l.undo
        → PointersRefused policy l c (from_byte m (count - 1)) next start
    go (inl z) = zero_asked count z asked
    go (inr z) = disconnects_again (lone_again m MsgIn.Disconnect count em refl refl asked within ∙ em) en e z
refused_from policy l c m next count start asked within (closes em en e w) = go em w
  where
    go : IsOfStatus m → (count ≡ 0) ⊎ OnUndo (λ (u : CarriedBytes). is_marked u ≡ true) l.undo
        → PointersRefused policy l c (from_byte m (count - 1)) next start
    go f (inl z) = zero_asked count z asked
    go (inl f) (inr z) =
        closes_again (inl (lone_again m MsgIn.CommandComplete count f refl refl asked within ∙ f)) en e z
    go (inr f) (inr z) =
        closes_again (inr (lone_again m MsgIn.RestorePointers count f refl refl asked within ∙ f)) en e z

-- ---- runs that are made

pub runs_more : (all : List ProcessProgress) (id : ProcId) (done counts : Bool)
    → (progress_in (progress_with all id done counts) id).runs ≡ (progress_in all id).runs + one_if done
runs_more all id done counts = go done counts
  where
    none : (m : ℕ) → m ≡ m + 0
    none m = omega arith

    new : (d r : Bool) → (progress_in (record {
      id = id;
      runs = (progress_in all id).runs + one_if d;
      recoveries = (progress_in all id).recoveries + one_if r;
    } ∷ all) id).runs ≡ (progress_in all id).runs + one_if d
    new d r = ap (λ (q : Bool). (if q then record {
      id = id;
      runs = (progress_in all id).runs + one_if d;
      recoveries = (progress_in all id).recoveries + one_if r;
    } else progress_in all id).runs) (self_id id)

    go : (d r : Bool) → (progress_in (if d || r then record {
      id = id;
      runs = (progress_in all id).runs + one_if d;
      recoveries = (progress_in all id).recoveries + one_if r;
    } ∷ all else all) id).runs ≡ (progress_in all id).runs + one_if d
    go true r = new true r
    go false true = new false true
    go false false = none (progress_in all id).runs

-- ---- a row

-- What is known of the process as the phase is left.
pub record TurnsBy (s : ScenarioValue) (k : RunState) (n : Connection) (q : Process) : Type 0 where
  pub served_is : process_served s k ≡ Some q
  pub target_is : q.target ≡ n.target
  pub task : Task
  pub runs_are : task.runs ≡ (progress_in k.progress q.id).runs
  pub moves_by : MovesBy (run_policy s q) (serving_of s k n.target) k.handshakes task (run_step s q)
      (phase_of (bus_of k))

abbrev pub start_after : ScenarioValue → RunState → Connection → Process → ℕ
start_after s k n q = ((progress_in k.progress q.id).runs + one_if (leaving s k n.target).done) * run_step s q

-- What the row makes of what is kept.
pub record Turned (s : ScenarioValue) (k j : RunState) (row : Row) (n : Connection) (c : Change) (q : Process)
    (l : Link) : Type 0 where
  pub exchange_begun : j.exchange.begun ≡ true
  pub plan_is : j.exchange.plan
      ≡ plan_in_phase (hearing_of k row (reading_in k.story.bus_state n c false)) (leaving s k n.target) k.exchange.plan
  pub bus_is : bus_of j ≡ c.after
  pub handshakes_is : j.handshakes ≡ no_handshakes
  pub carried : SamePointers (carried_here j q.id) (carried_here k q.id)
  pub link : j.story.link ≡ Some l
  pub start : k.exchange.begun ≡ true → run_start s j q ≡ start_after s k n q
  pub start_first : k.exchange.begun ≡ false → run_start s j q ≡ run_start s k q
  pub marked : l.item ≡ Some (process q.id) → is_status_phase c.after ≡ true → is_marked (carried_here j q.id) ≡ true

pub turned_is : (s : ScenarioValue) (k : RunState) (row : Row) (n : Connection) (c : Change) (q : Process) (l : Link)
    → IsRowIn k row n c → process_served s k ≡ Some q → changes_phase c ≡ true → receiver_in n c ≡ None
    → is_fault row.kind ≡ false → k.story.link ≡ Some l → Turned s k (run_state_after s k row) row n c q l
turned_is s k row n c q l r served ep er ef el = record {
  exchange_begun = ap (λ (x : Exchange). x.begun) i.exchange_is;
  plan_is = ap (λ (x : Exchange). x.plan) i.exchange_is;
  bus_is = i.bus_is;
  handshakes_is = i.handshakes_is ∙ ap (λ (f : Bool). handshakes_after f (Some n) c row.time k.handshakes) ef
      ∙ ap (λ (y : Bool). if y then no_handshakes else answered_if (rises c.before.ack c.after.ack) row.time
      (asked_if (rises c.before.req c.after.req) row.time k.handshakes)) ep;
  carried = same_on (carried_here j q.id)
      (carried_of (story_after_fault k.story l row.kind).carried q.id) (carried_here k q.id)
      (subst (λ (x : CarriedBytes). SamePointers x (carried_of (story_after_fault k.story l row.kind).carried q.id))
      (sym there) (events_same s (story_after_fault k.story l row.kind) (link_events s k.story (Some l) d) q.id))
      (fault_story k.story l row.kind q.id);
  link = link_after s k row n c false r none ∙ ap (λ (x : Option Link). (story_in_connection s k.story x d row).link) el
      ∙ fault_link k.story l row.kind ∙ el;
  start = λ b. ap (λ (x : List ProcessProgress). (progress_in x q.id).runs * run_step s q)
      (progress ∙ (λ z. if ep z && b z then progress_by_leaving k (served z) (leaving s k n.target) else k.progress))
      ∙ ap (λ (x : ℕ). x * run_step s q)
      (runs_more k.progress q.id (leaving s k n.target).done (leaving s k n.target).counts);
  start_first = λ b. ap (λ (x : List ProcessProgress). (progress_in x q.id).runs * run_step s q) (progress
      ∙ (λ z. if ep z && b z then progress_by_leaving k (process_served s k) (leaving s k n.target) else k.progress));
  marked = λ own status. ap is_marked there ∙ ap (λ (x : Bool). is_marked (carried_of (story_after_events s
      (story_after_fault k.story l row.kind) (if x then phase_events s k.story (carried_if k.story l.item) c
      else if is_completion l c then end_events (carried_if k.story l.item) else [])).carried q.id)) ep
      ∙ ap (λ (x : Option Item). is_marked (carried_of (story_after_events s
      (story_after_fault k.story l row.kind) (phase_events s k.story (carried_if k.story x) c)).carried q.id)) own
      ∙ status_marks s k.story (story_after_fault k.story l row.kind) (carried_here k q.id) q.id c.before c.after
      (carried_id k.story.carried q.id) (drives row.kind ef) status;
}
  where
    j : RunState
    j = run_state_after s k row

    d : RowReading
    d = reading_in k.story.bus_state n c false

    none : is_some (receiver_in n c) ≡ false
    none = ap (λ (z : Option ℕ). is_some z) er

    i : InConnection s k row n c true false false
    i = in_connection s k row n c true false false r ep none ef

    there : carried_here j q.id ≡ carried_of
        (story_after_events s (story_after_fault k.story l row.kind) (link_events s k.story (Some l) d)).carried q.id
    there = ap (λ (x : Story). carried_of x.carried q.id) (story_row s k row n c false r none
        ∙ (λ z. story_after_events s (story_in_connection s k.story (el z) d row) (link_events s k.story (el z) d)))

    progress : j.progress
        ≡ (if changes_phase c && k.exchange.begun then progress_by_leaving k (process_served s k) (leaving s k n.target)
        else k.progress)
    progress = λ z. progress_after s k (reading_is k row n c false r none z) (r.connection_is z)
        (reading_is k row n c false r none z).next (leaving_of s k (r.connection_is z))

    drives : (kind : Kind) → is_fault kind ≡ false
        → carried_of (story_after_fault k.story l kind).carried q.id ≡ carried_here k q.id
    drives (Drives lines) e = refl
    drives (Fault bit) e = absurd (true≢false e)
