-- Each process that ran has carried its command block and the bytes that it moves, and one that ended its status, after
-- any rows of a prompt trace (6.4, 6.6.5, 7.3).
use Rattle.right_laws.proofs
use proofs.Names.{ℕ, ◌≡◌, ◌⊎◌, inl, inr, Bool, true, false, not, ◌&&◌, ◌||◌, ◌%◌, ◌∙◌, List, [], ◌∷◌, ◌++◌, Option}
use proofs.Names.{Some, None, refl, sym, ap, subst, true≢false, if◌then◌else◌, is_some, slice_index, wrong, wrong'}
use proofs.Names.{Event, ProcId, rises, LineSet, is_command, is_data, Row, Change, ScenarioValue, array_step, reply_in}
use proofs.Names.{Reply, same_id, RunningProcess, Array, guest_at, RowReading, row_reading, CarriedBytes, area_with}
use proofs.Names.{carried_after_byte, is_status_phase, is_complete, is_completion, row_events_by, process, has_item}
use proofs.Names.{Link, is_run_of, has_run, story_after_events, story_by_change, phase_of, Phase, RunState, array_of}
use proofs.Names.{or_start, bus_of, carried_here, run_state, run_state_after, array_after_events, id_is, self_id}
use proofs.Names.{is_in_phase, GoesOn, none_some, command_phase, by_bool, by_option, replies_to, listed_on, running_id}
use proofs.Names.{Stood, NextStood, is_marked, ItemFacts, IsUntouched, RunsOpen, PlaceFacts, PlacedIn, AreRepliesShown}
use proofs.Names.{items_open, ends_over, over_row, Load, load, UndoesLoads, UndoLoadFacts, OnEvents, IfOpen, OnOpen}
use proofs.{Names.{HasBlock, BlockFacts, HasRun, IsEnded, RightFacts, MovesAtRun, StatusAtEnd}, Ran.Blocks.{lasting_by}}
use proofs.Ran.{Blocks.{turn_silent, blocks_stay, blocks_arrive}, Crossings.{GoesSo, crossing_goes, here_goes}}
use proofs.Ran.Crossings.{known_served, IsPlaced, placed_here, new_here, InBytes, in_command, in_data, in_status}
use proofs.Ran.{Crossings.{byte_phase}, Lasting.{row_lasts}, Open.{IfAccepts, reply_kept, replies_kept, running_has}}
use proofs.Ran.{Open.{open_step, none_is}, Shown.{IsArrival, IsAnswer, ShownAs, row_shown, RunsAs, runs_alone}}
use proofs.Ran.{Shown.{runs_arrived, row_runs}, Undone.{lasting_load, load_asks, loads_stay}}
use Rattle.due_model.specs.array_model.specs.Steps

no_reply : {A : Type 0} (o : Option Reply) → is_some o ≡ true → o ≡ None → A
no_reply o e f = wrong' (sym (ap is_some f) ∙ e)

-- ---- what is known of a row

pub record Known (s : ScenarioValue) (p : List Row) (row : Row) : Type 0 where
  pub was : Stood s p
  pub next : NextStood s p row
  pub items : ItemFacts s p
  pub undo : UndoLoadFacts s p
  pub places : PlaceFacts s p
  pub later : PlaceFacts s (row ∷ p)
  pub shown : AreRepliesShown s (run_state s p)

pub apart_of : (s : ScenarioValue) (p : List Row) (row : Row) → Known s p row
    → (run_state s p).story.bus_state.connection ≡ None → (run_state s p).story.link ≡ None
apart_of s p row h e = (h.items.items.apart e).0

pub undoes_of : (s : ScenarioValue) (p : List Row) (row : Row) → Known s p row → UndoesLoads (run_state s p) row
undoes_of s p row h = load_asks s p row h.was h.next h.undo

pub here_is : (s : ScenarioValue) (p : List Row) (row : Row) (h : Known s p row)
    → array_of s (run_state s p) ≡ h.places.array
here_is s p row h = ap (or_start s) h.places.array_is

pub then_is : (s : ScenarioValue) (p : List Row) (row : Row) (h : Known s p row)
    → array_of s (run_state s (row ∷ p)) ≡ h.later.array
then_is s p row h = ap (or_start s) h.later.array_is

pub steps_of : (s : ScenarioValue) (p : List Row) (row : Row) (h : Known s p row)
    → array_after_events s (Some h.places.array)
    (row_events_by s (run_state s p).story (row_reading (run_state s p).story.bus_state row) row) ≡ Some h.later.array
steps_of s p row h = (λ i. array_after_events s (sym h.places.array_is i)
    (row_events_by s (run_state s p).story (row_reading (run_state s p).story.bus_state row) row))
    ∙ h.later.array_is

-- ---- what was answered carries no more of its command and its data

no_bytes : (c : CarriedBytes) (b : LineSet) (byte : ℕ) → is_command b ≡ false → is_data b ≡ false
    → ((carried_after_byte c b byte).command.bytes ≡ c.command.bytes)
    × ((carried_after_byte c b byte).moved.bytes ≡ c.moved.bytes)
no_bytes c b byte e f = go (is_command b) (is_data b) (is_status_phase b) e f
  where
    go : (q r t : Bool) → q ≡ false → r ≡ false
        → ((if q then record c { command = area_with c.command byte; block = c.block ++ byte ∷ [] }
        else if r then record c { moved = area_with c.moved byte }
        else if t then record c { status = area_with c.status byte } else c).command.bytes ≡ c.command.bytes)
        × ((if q then record c { command = area_with c.command byte; block = c.block ++ byte ∷ [] }
        else if r then record c { moved = area_with c.moved byte }
        else if t then record c { status = area_with c.status byte } else c).moved.bytes ≡ c.moved.bytes)
    go true r t z w = wrong z
    go false true t z w = wrong w
    go false false true z w = (refl, refl)
    go false false false z w = (refl, refl)

-- As a byte crosses outside the message phases, of a process with a reply, it is of STATUS.
status_alone : (s : ScenarioValue) (p : List Row) (row : Row) (h : Known s p row) (l : Link) (id : ProcId)
    → is_some (reply_in (array_of s (run_state s p)).replies id) ≡ true → (run_state s p).story.link ≡ Some l
    → l.item ≡ Some (process id) → (row_reading (run_state s p).story.bus_state row).crosses ≡ true
    → (row_reading (run_state s p).story.bus_state row).change.before.msg ≡ false
    → (is_command (row_reading (run_state s p).story.bus_state row).change.before ≡ false)
    × (is_data (row_reading (run_state s p).story.bus_state row).change.before ≡ false)
status_alone s p row h l id given link item crosses msg = by (crossing_goes s k row h.next.row_is crosses)
  where
    k : RunState
    k = run_state s p

    b : LineSet
    b = (row_reading k.story.bus_state row).change.before

    by : GoesSo s k row → (is_command b ≡ false) × (is_data b ≡ false)
    by w = go (byte_phase b msg)
      where
        g : GoesOn s k row w.connection w.change
        g = w.goes

        place : IsPlaced s k h.places.array id
        place = placed_here s k row w.connection w.change id h.places g
            (known_served s k row w.connection w.change l id h.was.books g link item) (g.begun crosses)

        lines : bus_of k ≡ b
        lines = g.row_is.bus_is ∙ ap (λ (x : Change). x.before) (sym g.row_is.change_is)

        some : is_some (reply_in h.places.array.replies place.process.id) ≡ true
        some = (λ i. is_some (reply_in (sym (here_is s p row h) i).replies (place.id_is i))) ∙ given

        at : (phase : Phase) → phase_of b ≡ phase
            → PlacedIn h.places.array place.process k.exchange.plan k.handshakes (bus_of k).atn phase
        at phase e = subst (λ (z : Phase). PlacedIn h.places.array place.process k.exchange.plan k.handshakes
            (bus_of k).atn z) (ap phase_of lines ∙ e) place.placed

        untouched : IsUntouched h.places.array place.process.id → (is_command b ≡ false) × (is_data b ≡ false)
        untouched z = no_reply (reply_in h.places.array.replies place.process.id) some z.reply

        running : RunsOpen h.places.array place.process → (is_command b ≡ false) × (is_data b ≡ false)
        running z = no_reply (reply_in h.places.array.replies place.process.id) some z.runs.reply

        go : InBytes b → (is_command b ≡ false) × (is_data b ≡ false)
        go (in_command e f) = untouched (at Phase.Command e)
        go (in_data (inl e) f v) = running (at Phase.DataIn e)
        go (in_data (inr e) f v) = running (at Phase.DataOut e)
        go (in_status e f v x) = (f, v)

-- The bytes of its command and of its data.
answered_stays : (s : ScenarioValue) (p : List Row) (row : Row) (h : Known s p row) (id : ProcId)
    → is_some (reply_in (array_of s (run_state s p)).replies id) ≡ true
    → ((carried_here (run_state s (row ∷ p)) id).command.bytes ≡ (carried_here (run_state s p) id).command.bytes)
    × ((carried_here (run_state s (row ∷ p)) id).moved.bytes ≡ (carried_here (run_state s p) id).moved.bytes)
answered_stays s p row h id given = (
  row_lasts (λ (c : CarriedBytes). (load c).command) (lasting_by (λ (x : Load). x.command)) s k row id
      (λ l e item crosses msg. (silent l e item crosses msg).0)
      (λ l m u e out parity undo same. ap (λ (x : Load). x.command) (undoes l m u e out parity undo)
      ∙ ap (λ (x : ProcId). (carried_here k x).command.bytes) same),
  row_lasts (λ (c : CarriedBytes). (load c).moved) (lasting_by (λ (x : Load). x.moved)) s k row id
      (λ l e item crosses msg. (silent l e item crosses msg).1)
      (λ l m u e out parity undo same. ap (λ (x : Load). x.moved) (undoes l m u e out parity undo)
      ∙ ap (λ (x : ProcId). (carried_here k x).moved.bytes) same),
)
  where
    k : RunState
    k = run_state s p

    d : RowReading
    d = row_reading k.story.bus_state row

    undoes : UndoesLoads k row
    undoes = undoes_of s p row h

    silent : (l : Link) → k.story.link ≡ Some l → l.item ≡ Some (process id)
        → d.crosses ≡ true → d.change.before.msg ≡ false
        → ((carried_after_byte (carried_here k id) d.change.before (d.change.after.data_bits % 256)).command.bytes
        ≡ (carried_here k id).command.bytes)
        × ((carried_after_byte (carried_here k id) d.change.before (d.change.after.data_bits % 256)).moved.bytes
        ≡ (carried_here k id).moved.bytes)
    silent l e item crosses msg =
        let two = status_alone s p row h l id given e item crosses msg in
        no_bytes (carried_here k id) d.change.before (d.change.after.data_bits % 256) two.0 two.1

-- Its reply stays.
reply_stays : (s : ScenarioValue) (p : List Row) (row : Row) (h : Known s p row) (id : ProcId)
    → is_some (reply_in (array_of s (run_state s p)).replies id) ≡ true
    → reply_in (array_of s (run_state s (row ∷ p))).replies id ≡ reply_in (array_of s (run_state s p)).replies id
reply_stays s p row h id given =
    ap (λ (a : Array). reply_in a.replies id) (then_is s p row h)
    ∙ replies_kept s h.places.array h.later.array shown id (each shown (row_shown s k row)) (steps_of s p row h)
    ∙ ap (λ (a : Array). reply_in a.replies id) (sym (here_is s p row h))
  where
    k : RunState
    k = run_state s p

    d : RowReading
    d = row_reading k.story.bus_state row

    shown : List Event
    shown = row_events_by s k.story d row

    -- COMMAND is not left with one that has a reply
    arrival : (x : ProcId) → x ≡ id → IsArrival k d x → ⊥
    arrival x same w = by (here_goes s k row w.link x (apart_of s p row h) h.next.row_is w.here)
      where
        by : GoesSo s k row → ⊥
        by v =
            let g = v.goes in
            let served = known_served s k row v.connection v.change
            w.link x h.was.books g w.here.link_is w.here.item_is in
            let lines : is_command (bus_of k) ≡ true =
            ap is_command (g.row_is.bus_is ∙ ap (λ (y : Change). y.before) (sym g.row_is.change_is)) ∙ w.command in
            let new = new_here s k row v.connection v.change x h.places g served (command_phase (bus_of k) lines) in
            no_reply (reply_in h.places.array.replies new.process.id)
            ((λ i. is_some (reply_in (sym (here_is s p row h) i).replies ((new.id_is ∙ same) i))) ∙ given)
            new.untouched.reply

    answer : (x : ProcId) → x ≡ id → IsAnswer k d x → ⊥
    answer x same w =
        wrong' (sym w.unanswered ∙ ap (λ (y : ProcId). is_marked (carried_here k y)) same ∙ sym (h.shown id) ∙ given)

    other : (x : ProcId) → (x ≡ id → ⊥) → same_id x id ≡ false
    other x f = by_bool (same_id x id) (λ e. absurd (f (id_is x id e))) (λ e. e)

    left : (e : Event) → ShownAs s k d row e → replies_to e id ≡ false
    left (Event.Refuse x) w = other x (λ z. arrival x z w)
    left (Event.Run x) w = other x (λ z. answer x z w)
    left (Event.Fail x code) w = other x (λ z. answer x z w)
    left _ w = refl

    each : (xs : List Event) → OnEvents (ShownAs s k d row) xs → OnEvents (λ e. replies_to e id ≡ false) xs
    each [] w = tt
    each (e ∷ xs) w = (left e w.0, each xs w.1)

pub given_stays : (s : ScenarioValue) (p : List Row) (row : Row) (h : Known s p row) (id : ProcId)
    → is_some (reply_in (array_of s (run_state s p)).replies id) ≡ true
    → is_some (reply_in (array_of s (run_state s (row ∷ p))).replies id) ≡ true
given_stays s p row h id given = ap is_some (reply_stays s p row h id given) ∙ given

ran_stays : (s : ScenarioValue) (p : List Row) (row : Row) (h : Known s p row) (id : ProcId)
    → HasRun s (run_state s p) id → HasRun s (run_state s (row ∷ p)) id
ran_stays s p row h id w =
    let same = answered_stays s p row h id w.given in
    record {
      process = w.process;
      process_is = w.process_is;
      given = given_stays s p row h id w.given;
      block = λ q own. same.0 ∙ w.block q own;
      moved = λ q reply own is. same.1 ∙ w.moved q reply own (sym (reply_stays s p row h id w.given) ∙ is);
    }

-- ---- one that runs with the row

pub record IsFound (a : Array) (id : ProcId) : Type 0 where
  pub running : RunningProcess
  pub running_is : Steps.running_process a id ≡ Some running

pub run_found : (s : ScenarioValue) (a b : Array) (id : ProcId) → Steps.step s (Event.Run id) a ≡ Some b → IsFound a id
run_found s a b id e = by_option (Steps.running_process a id) (λ z. none_some b (sym
    (ap (λ (o : Option RunningProcess). Steps.settled_array_if (Steps.run_step a (is_some (guest_at a.guests id)) o)) z)
    ∙ e)) (λ r z. record { running = r; running_is = z })

-- It has its block, and a reply after it.
record Ran (s : ScenarioValue) (h : ProcId → Type 0) (b : Array) (id : ProcId) : Type 0 where
  has : h id
  given : is_some (reply_in b.replies id) ≡ true

runs_from : (s : ScenarioValue) (h : ProcId → Type 0) (a b : Array) (id : ProcId) → OnOpen h a
    → reply_in a.replies id ≡ None → Steps.step s (Event.Run id) a ≡ Some b → Ran s h b id
runs_from s h a b id all none e =
    let f = run_found s a b id e in
    let own = running_id a id f.running f.running_is in
    record {
      has = subst h own (running_has (IfOpen h a) a id f.running all f.running_is
          (ap (λ (x : ProcId). reply_in a.replies x) own ∙ none));
      given =
          listed_on s a b (Event.Run id) e id ∙ ap (λ (q : Bool). q || is_some (reply_in a.replies id)) (self_id id);
    }

runs_by : (s : ScenarioValue) (h : ProcId → Type 0) (a b : Array) (id : ProcId) (shown : List Event)
    → RunsAs id shown → OnOpen h a → OnEvents (IfAccepts h) shown → reply_in a.replies id ≡ None
    → array_after_events s (Some a) shown ≡ Some b → Ran s h b id
runs_by s h a b id shown (runs_alone e) all arrives none st =
    runs_from s h a b id all none (sym (ap (array_after_events s (Some a)) e) ∙ st)
runs_by s h a b id shown (runs_arrived e) all arrives none st =
    go (array_step s (Event.Accept id) (Some a)) refl (sym (ap (array_after_events s (Some a)) e) ∙ st)
  where
    accepts : IfAccepts h (Event.Accept id)
    accepts = (subst (OnEvents (IfAccepts h)) e arrives).1.0

    go : (o : Option Array) → array_step s (Event.Accept id) (Some a) ≡ o → array_step s (Event.Run id) o ≡ Some b
        → Ran s h b id
    go None z w = none_some b w
    go (Some c) z w = runs_from s h c b id (open_step s h a c (Event.Accept id) accepts z all)
        (reply_kept s a c (Event.Accept id) id refl z ∙ none) w

ran_new : (s : ScenarioValue) (p : List Row) (row : Row) (h : Known s p row)
    → BlockFacts s p → MovesAtRun s (run_state s p) row → (id : ProcId)
    → has_run (row_events_by s (run_state s p).story (row_reading (run_state s p).story.bus_state row) row) id ≡ true
    → HasRun s (run_state s (row ∷ p)) id
ran_new s p row h blocks moves id has =
    by (here_goes s k row answer.link id (apart_of s p row h) h.next.row_is answer.here)
  where
    k : RunState
    k = run_state s p

    j : RunState
    j = run_state_after s k row

    d : RowReading
    d = row_reading k.story.bus_state row

    shown : List Event
    shown = row_events_by s k.story d row

    shape : RunsAs id shown
    shape = row_runs s k row id has

    first : RunsAs id shown → IsAnswer k d id
    first (runs_alone e) = (subst (OnEvents (ShownAs s k d row)) e (row_shown s k row)).0
    first (runs_arrived e) = (subst (OnEvents (ShownAs s k d row)) e (row_shown s k row)).0

    answer : IsAnswer k d id
    answer = first shape

    none : reply_in h.places.array.replies id ≡ None
    none = none_is (reply_in h.places.array.replies id)
        (ap (λ (a : Array). is_some (reply_in a.replies id)) (sym (here_is s p row h)) ∙ h.shown id ∙ answer.unanswered)

    ran : Ran s (HasBlock s j) h.later.array id
    ran =
        runs_by s (HasBlock s j) h.places.array h.later.array id shown shape
        (blocks_stay s p row h.was h.next h.undo h.places (subst (OnOpen (HasBlock s k)) (here_is s p row h) blocks))
        (blocks_arrive s p row h.was h.next h.items h.undo h.places) none (steps_of s p row h)

    by : GoesSo s k row → HasRun s j id
    by w =
        let served = known_served s k row w.connection w.change answer.link
        id h.was.books w.goes answer.here.link_is answer.here.item_is in
        let own = h.places.of_scenario id served in
        let silent = turn_silent s k row w.connection w.change w.goes answer.turns in
        record {
          process = own.0;
          process_is = own.1;
          given = ap (λ (a : Array). is_some (reply_in a.replies id)) (then_is s p row h) ∙ ran.given;
          block = ran.has;
          moved = λ q reply is given.
              ap (λ (x : Load). x.moved) (loads_stay s k row (λ z. wrong' (sym silent ∙ z)) (undoes_of s p row h) id)
              ∙ moves id q reply has is given;
        }

-- ---- one that ended

not_in : (b : LineSet) → b.msg ≡ false → is_in_phase (phase_of b) ≡ false
not_in b e = (λ i. is_in_phase (if e i then (if b.io then Phase.MessageIn else Phase.MessageOut)
    else if b.cd then (if b.io then Phase.Status else Phase.Command) else if b.io then Phase.DataIn else Phase.DataOut))
    ∙ go b.cd b.io
  where
    go : (c i : Bool) → is_in_phase
        (if c then (if i then Phase.Status else Phase.Command) else if i then Phase.DataIn else Phase.DataOut) ≡ false
    go true true = refl
    go true false = refl
    go false true = refl
    go false false = refl

-- What is over carries no more.
pub over_still : (s : ScenarioValue) (p : List Row) (row : Row) → Known s p row
    → (id : ProcId) → has_item (run_state s p).story.sent.over (process id) ≡ true
    → load (carried_here (run_state s (row ∷ p)) id) ≡ load (carried_here (run_state s p) id)
over_still s p row h id over = row_lasts load lasting_load s k row id
    (λ l e item crosses msg. absurd (carries l e item crosses msg)) (λ l m u e out parity undo same.
    undoes_of s p row h l m u e out parity undo ∙ ap (λ (x : ProcId). load (carried_here k x)) same)
  where
    k : RunState
    k = run_state s p

    carries : (l : Link) → k.story.link ≡ Some l → l.item ≡ Some (process id)
        → (row_reading k.story.bus_state row).crosses ≡ true
        → (row_reading k.story.bus_state row).change.before.msg ≡ false → ⊥
    carries l e item crosses msg = by (crossing_goes s k row h.next.row_is crosses)
      where
        by : GoesSo s k row → ⊥
        by w =
            let g = w.goes in
            let served = known_served s k row w.connection w.change l id h.was.books g e item in
            let lines : (bus_of k).msg ≡ false =
            ap (λ (b : LineSet). b.msg) (g.row_is.bus_is ∙ ap (λ (x : Change). x.before) (sym g.row_is.change_is))
            ∙ msg in
            let opens = items_open s p w.connection h.was h.items (sym h.was.plain.connection ∙ g.row_is.connection_is)
            (sym (ap (λ (b : LineSet). b.rst) h.was.plain.bus) ∙ g.calm) in
            true≢false (sym over ∙ opens.open_is (process id) served (not_in (bus_of k) lines))

ended_stays : (s : ScenarioValue) (p : List Row) (row : Row) → Known s p row → (e : Event) → IsEnded s (run_state s p) e
    → IsEnded s (run_state s (row ∷ p)) e
ended_stays s p row h (Event.End id status) w = record {
  status_is = ap (λ (x : Load). x.status) (over_still s p row h id w.over) ∙ w.status_is;
  over = over_row s (run_state s p) row (process id) w.over;
}
ended_stays s p row h (Event.Accept id) w = tt
ended_stays s p row h (Event.Refuse id) w = tt
ended_stays s p row h (Event.Run id) w = tt
ended_stays s p row h (Event.Fail id code) w = tt
ended_stays s p row h (Event.Lost id) w = tt
ended_stays s p row h (Event.Aborted i t n what) w = tt
ended_stays s p row h (Event.Reset dev) w = tt

message_before : (l : Link) (c : Change) → is_completion l c ≡ true → c.before.msg ≡ true
message_before l c e =
    go (rises c.before.ack c.after.ack) (is_complete l.last) c.after.atn c.before.msg c.before.cd c.before.io e
  where
    go : (a x y m d i : Bool) → (a && (m && d && i) && x && not y) ≡ true → m ≡ true
    go a x y true d i z = refl
    go true x y false d i z = wrong' z
    go false x y false d i z = wrong' z

ended_new : (s : ScenarioValue) (p : List Row) (row : Row) → Known s p row → StatusAtEnd (run_state s p) row
    → (e : Event) → ShownAs s (run_state s p) (row_reading (run_state s p).story.bus_state row) row e
    → IsEnded s (run_state s (row ∷ p)) e
ended_new s p row h one (Event.End id status) w =
    let some = one w.link id w.here.link_is w.here.item_is w.here.calm w.here.stands w.done in
    let same = loads_stay s k row
    (λ z. message_before w.link (row_reading k.story.bus_state row).change w.done) (undoes_of s p row h) id in
    let is : status ≡ some.0 = w.status_is ∙ ap (λ (x : List ℕ). slice_index x 0) some.1 in
    record {
      status_is = ap (λ (x : Load). x.status) same ∙ some.1 ∙ ap (λ (x : ℕ). x ∷ []) (sym is);
      over = subst (λ (x : List Event). has_item
          (story_after_events s (story_by_change s k.story (row_reading k.story.bus_state row) row) x).sent.over
          (process id) ≡ true) (sym w.alone)
          (ends_over s (story_by_change s k.story (row_reading k.story.bus_state row) row) id status);
    }
  where
    k : RunState
    k = run_state s p
ended_new s p row h one _ w = tt

-- ---- any row

map_events : (q r : Event → Type 0) → ((e : Event) → q e → r e) → (xs : List Event) → OnEvents q xs → OnEvents r xs
map_events q r f [] h = tt
map_events q r f (e ∷ xs) h = (f e h.0, map_events q r f xs h.1)

append_events : (q : Event → Type 0) (xs ys : List Event) → OnEvents q xs → OnEvents q ys → OnEvents q (xs ++ ys)
append_events q [] ys h g = g
append_events q (e ∷ xs) ys h g = (h.0, append_events q xs ys h.1 g)

pub run_either : (xs ys : List Event) (id : ProcId) → has_run (xs ++ ys) id ≡ true
    → (has_run xs id ≡ true) ⊎ (has_run ys id ≡ true)
run_either [] ys id e = inr e
run_either (x ∷ xs) ys id e = go (is_run_of id x) e (run_either xs ys id)
  where
    go : (q : Bool) → (q || has_run (xs ++ ys) id) ≡ true
        → (has_run (xs ++ ys) id ≡ true → (has_run xs id ≡ true) ⊎ (has_run ys id ≡ true))
        → ((q || has_run xs id) ≡ true) ⊎ (has_run ys id ≡ true)
    go true z rest = inl refl
    go false z rest = rest z

-- Those that ended, whatever ran.
pub ended_next : (s : ScenarioValue) (p : List Row) (row : Row) → Known s p row
    → StatusAtEnd (run_state s p) row → OnEvents (IsEnded s (run_state s p)) (run_state s p).story.history
    → OnEvents (IsEnded s (run_state s (row ∷ p))) (run_state s (row ∷ p)).story.history
ended_next s p row known one h = append_events (IsEnded s j) now k.story.history
    (map_events (ShownAs s k d row) (IsEnded s j) (ended_new s p row known one) now (row_shown s k row))
    (map_events (IsEnded s k) (IsEnded s j) (ended_stays s p row known) k.story.history h)
  where
    k : RunState
    k = run_state s p

    j : RunState
    j = run_state_after s k row

    d : RowReading
    d = row_reading k.story.bus_state row

    now : List Event
    now = row_events_by s k.story d row

pub right_start : (s : ScenarioValue) → RightFacts s []
right_start s = record { ran = λ id e. wrong' e; ended = tt }

pub right_next : (s : ScenarioValue) (p : List Row) (row : Row) → Stood s p → NextStood s p row → ItemFacts s p
    → UndoLoadFacts s p → PlaceFacts s p → PlaceFacts s (row ∷ p) → AreRepliesShown s (run_state s p) → BlockFacts s p
    → MovesAtRun s (run_state s p) row → StatusAtEnd (run_state s p) row → RightFacts s p → RightFacts s (row ∷ p)
right_next s p row was next items undo places later shown blocks moves one h = record {
  ran = λ id e. by id (run_either now k.story.history id e);
  ended = ended_next s p row known one h.ended;
}
  where
    k : RunState
    k = run_state s p

    j : RunState
    j = run_state_after s k row

    d : RowReading
    d = row_reading k.story.bus_state row

    now : List Event
    now = row_events_by s k.story d row

    known : Known s p row
    known = record { was = was; next = next; items = items; undo = undo; places = places; later = later; shown = shown }

    by : (id : ProcId) → (has_run now id ≡ true) ⊎ (has_run k.story.history id ≡ true) → HasRun s j id
    by id (inl e) = ran_new s p row known blocks moves id e
    by id (inr e) = ran_stays s p row known id (h.ran id e)
