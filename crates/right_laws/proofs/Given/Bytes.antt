-- What a process has given of its data stays a front of what it would give, with each row; so as it runs it has carried
-- the bytes of its reply (6.1.5, 6.6.20, 7.3).
use Rattle.right_laws.proofs
use proofs.Names.{ℕ, ◌≡◌, ◌≤◌, ◌<◌, inl, inr, arith, Bool, true, false, not, ◌&&◌, ◌==◌, ◌%◌, ◌∙◌, List, [], ◌∷◌, ◌++◌}
use proofs.Names.{length, Option, Some, None, refl, sym, ap, subst, same_Some, if◌then◌else◌, is_some, slice_index_or}
use proofs.Names.{wrong, wrong', Event, ProcId, LineSet, is_command, is_data, receiver_of, receiver_in, Row, Change}
use proofs.Names.{GOOD, ScenarioValue, step_sound, array_step, reply_in, Reply, Process, same_id, HasSeats, Array}
use proofs.Names.{RowReading, row_reading, Area, CarriedBytes, area_with, carried_after_byte, is_status_phase}
use proofs.Names.{row_events_by, Item, process, abort, Link, moved_bytes, RunState, array_of, carried_here, run_state}
use proofs.Names.{run_state_after, array_after_events, is_writing, reply_now, run_replies, puts, id_is, self_id}
use proofs.Names.{IsFilled, none_some, by_bool, by_option, running_id, GivesAtRun, IsFront, GivenIn, HasGiven}
use proofs.Names.{GivenFacts, GivesNext, HasReplyStill, GivesAsked, Load, load, OnEvents, IfOpen, OnOpen}
use proofs.{Given.Areas.{moved_crosses}, Ran.{Blocks.{lasting_by, front_all}, Crossings.{GoesSo, crossing_goes}}}
use proofs.Ran.{Facts.{Known, here_is, run_found, steps_of, then_is, undoes_of}, Lasting.{row_lasts}, Open.{IfAccepts}}
use proofs.Ran.{Open.{each_both, each_map, open_events, open_start, running_has, none_is}, Shown.{IsArrival, IsAnswer}}
use proofs.Ran.Shown.{ShownAs, row_shown, RunsAs, runs_alone, runs_arrived, row_runs}
use Rattle.due_model.specs.array_model.specs.Steps

-- ---- a byte comes to a front

front_with : (a : Area) (all : List ℕ) (byte : ℕ) → IsFront a.bytes all → byte ≡ slice_index_or all a.active 0
    → a.active ≤ length a.bytes → a.active < length all → IsFront (area_with a byte).bytes all
front_with a all byte f e here within =
    let b : Area = record a { saved = 0 } in
    let filled : IsFilled b all =
    record { rest = f.rest; bytes_are = f.all_is; active_in = here; saved_in = omega arith } in
    let w : IsFilled (area_with b byte) all = puts b all byte filled e within in
    record { rest = w.rest; all_is = w.bytes_are }

front_of : (bytes all : List ℕ) → bytes ≡ [] → IsFront bytes all
front_of bytes all e = record { rest = all; all_is = ap (λ (x : List ℕ). x ++ all) e }

-- As a byte of it crosses.
given_with : (s : ScenarioValue) (k : RunState) (c : Process) (id : ProcId) (byte : ℕ)
    → GivesNext s k c id byte → GivenIn (array_of s k) c (carried_here k id).moved.bytes
    → GivenIn (array_of s k) c (area_with (carried_here k id).moved byte).bytes
given_with s k c id byte w h = inr (record {
  good = w.good;
  front = λ reads. front_with (carried_here k id).moved (reply_now (array_of s k) c).bytes byte (was h reads)
      (w.byte_is reads) (w.active_in reads) (w.within reads);
})
  where
    was : GivenIn (array_of s k) c (carried_here k id).moved.bytes → is_writing c ≡ false
        → IsFront (carried_here k id).moved.bytes (reply_now (array_of s k) c).bytes
    was (inl e) reads = front_of (carried_here k id).moved.bytes (reply_now (array_of s k) c).bytes e
    was (inr g) reads = g.front reads

-- ---- the bytes that were carried

no_data : (c : CarriedBytes) (b : LineSet) (byte : ℕ) → is_data b ≡ false
    → (carried_after_byte c b byte).moved.bytes ≡ c.moved.bytes
no_data c b byte e = go (is_command b) (is_data b) (is_status_phase b) e
  where
    go : (q r t : Bool) → r ≡ false
        → (if q then record c { command = area_with c.command byte; block = c.block ++ byte ∷ [] }
        else if r then record c { moved = area_with c.moved byte }
        else if t then record c { status = area_with c.status byte } else c).moved.bytes ≡ c.moved.bytes
    go true r t z = refl
    go false true t z = wrong z
    go false false true z = refl
    go false false false z = refl

-- Of one of which no byte of data crosses.
pub moved_stays : (s : ScenarioValue) (p : List Row) (row : Row) (h : Known s p row) (id : ProcId)
    → ((l : Link) → (run_state s p).story.link ≡ Some l → l.item ≡ Some (process id)
    → (row_reading (run_state s p).story.bus_state row).crosses ≡ true
    → is_data (row_reading (run_state s p).story.bus_state row).change.before ≡ false)
    → (carried_here (run_state s (row ∷ p)) id).moved.bytes ≡ (carried_here (run_state s p) id).moved.bytes
moved_stays s p row h id quiet =
    let k : RunState = run_state s p in
    let d : RowReading = row_reading k.story.bus_state row in
    row_lasts (λ (c : CarriedBytes). (load c).moved) (lasting_by (λ (x : Load). x.moved)) s k row id
    (λ l e item crosses msg. no_data (carried_here k id) d.change.before
    (d.change.after.data_bits % 256) (quiet l e item crosses))
    (λ l m u e out parity undo same. ap (λ (x : Load). x.moved) (undoes_of s p row h l m u e out parity undo)
    ∙ ap (λ (x : ProcId). (carried_here k x).moved.bytes) same)

data_lines : (b : LineSet) → is_data b ≡ true → (b.msg ≡ false) × (is_command b ≡ false)
data_lines b e = go b.msg b.cd refl refl e
  where
    go : (m d : Bool) → b.msg ≡ m → b.cd ≡ d → (not m && not d) ≡ true → (b.msg ≡ false) × (is_command b ≡ false)
    go true d x y z = wrong' z
    go false true x y z = wrong' z
    go false false x y z = (x, λ i. not (x i) && y i && not b.io)

abbrev is_it : ProcId → Option Item → Bool
is_it id (Some (process x)) = same_id x id
is_it id (Some (abort n)) = true
is_it id None = true

given_stays : (s : ScenarioValue) (p : List Row) (row : Row) (h : Known s p row)
    → GivesAsked s (run_state s p) row → (id : ProcId) → HasGiven s (array_of s (run_state s p)) (run_state s p) id
    → HasGiven s (array_of s (run_state s p)) (run_state s (row ∷ p)) id
given_stays s p row h asked id was q own =
    by_option k.story.link
    (λ e. still (λ m y w v. none_some m (sym e ∙ y)))
    (λ l e. known l e l.item refl)
  where
    k : RunState
    k = run_state s p

    j : RunState
    j = run_state_after s k row

    d : RowReading
    d = row_reading k.story.bus_state row

    As : List ℕ → Type 0
    As bytes = GivenIn (array_of s k) q bytes

    still : ((l : Link) → k.story.link ≡ Some l → l.item ≡ Some (process id) → d.crosses ≡ true
        → is_data d.change.before ≡ false) → As (carried_here j id).moved.bytes
    still quiet = subst As (sym (moved_stays s p row h id quiet)) (was q own)

    crossed : (l : Link) → k.story.link ≡ Some l → l.item ≡ Some (process id) → d.crosses ≡ true
        → is_data d.change.before ≡ true → GoesSo s k row → As (carried_here j id).moved.bytes
    crossed l e item ec ed w =
        let g = w.goes in
        let same : d.change ≡ w.change = g.row_is.change_is in
        let moves : is_data w.change.before ≡ true = ap (λ (c : Change). is_data c.before) (sym same) ∙ ed in
        let lines = data_lines w.change.before moves in
        let some : is_some (receiver_in w.connection w.change) ≡ true =
        (λ i. is_some (receiver_of (sym g.row_is.connection_is i) (sym same i))) ∙ ec in
        subst As (sym (moved_crosses s k row w.connection w.change l id g.row_is some e item lines.0 lines.1 moves
        ∙ ap (λ (c : Change). (area_with (carried_here k id).moved (c.after.data_bits % 256)).bytes) (sym same)))
        (given_with s k q id (d.change.after.data_bits % 256) (asked.crosses l id q e item own ec ed) (was q own))

    at : (l : Link) → k.story.link ≡ Some l → l.item ≡ Some (process id) → As (carried_here j id).moved.bytes
    at l e item = by d.crosses refl (is_data d.change.before) refl
      where
        by : (x : Bool) → d.crosses ≡ x → (y : Bool) → is_data d.change.before ≡ y → As (carried_here j id).moved.bytes
        by false ex y ey = still (λ m z w v. wrong (sym v ∙ ex))
        by true ex false ey = still (λ m z w v. ey)
        by true ex true ey = crossed l e item ex ey (crossing_goes s k row h.next.row_is ex)

    known : (l : Link) → k.story.link ≡ Some l → (o : Option Item) → l.item ≡ o → As (carried_here j id).moved.bytes
    known l e None z =
        still (λ m y w v. none_some (process id) (sym z ∙ ap (λ (x : Link). x.item) (same_Some l m (sym e ∙ y)) ∙ w))
    known l e (Some (abort u)) z =
        still (λ m y w v. absurd (abort_is u (sym z ∙ ap (λ (x : Link). x.item) (same_Some l m (sym e ∙ y)) ∙ w)))
      where
        abort_is : (u : ℕ) → (let o : Option Item = Some (abort u) in o) ≡ Some (process id) → ⊥
        abort_is u v = absurd cc
    known l e (Some (process x)) z = by_bool (same_id x id)
        (λ v. at l e (z ∙ ap (λ (y : ProcId). Some (process y)) (id_is x id v))) (λ v. still (λ m y w c. wrong
        (sym (self_id id) ∙ ap (is_it id) (sym w ∙ ap (λ (t : Link). t.item) (same_Some m l (sym y ∙ e)) ∙ z) ∙ v)))

-- ---- a row

-- What it would give does not change.
given_still : (s : ScenarioValue) (k j : RunState) (id : ProcId) → HasReplyStill s k j id
    → HasGiven s (array_of s k) j id → HasGiven s (array_of s j) j id
given_still s k j id same was q own = go (carried_here j id).moved.bytes refl (was q own)
  where
    some : {A : Type 0} (x : ℕ) (xs : List ℕ) → x ∷ xs ≡ [] → A
    some x xs e = absurd cc

    go : (bytes : List ℕ) → (carried_here j id).moved.bytes ≡ bytes
        → GivenIn (array_of s k) q (carried_here j id).moved.bytes
        → GivenIn (array_of s j) q (carried_here j id).moved.bytes
    go [] e w = inl e
    go (x ∷ xs) e (inl z) = inl z
    go (x ∷ xs) e (inr g) =
        let is : reply_now (array_of s j) q ≡ reply_now (array_of s k) q = same q own (λ z. some x xs (sym e ∙ z)) in
        inr (record {
          good = λ writes. ap (λ (r : Reply). r.status) is ∙ g.good writes;
          front =
              λ reads. subst (λ (r : Reply). IsFront (carried_here j id).moved.bytes r.bytes) (sym is) (g.front reads);
        })

pub no_data_in_command : (b : LineSet) → is_command b ≡ true → is_data b ≡ false
no_data_in_command b e = go b.msg b.cd b.io e
  where
    go : (m d i : Bool) → (not m && d && not i) ≡ true → (not m && not d) ≡ false
    go true d i z = refl
    go false true i z = refl
    go false false i z = wrong' z

arrives_with : (s : ScenarioValue) (p : List Row) (row : Row) (h : Known s p row) → GivesAsked s (run_state s p) row
    → (id : ProcId) → IsArrival (run_state s p) (row_reading (run_state s p).story.bus_state row) id
    → (carried_here (run_state s p) id).moved.bytes ≡ []
arrives_with s p row h asked id w =
    asked.arrives w.link id w.here.link_is w.here.item_is w.here.calm w.here.stands w.turns w.command

given_arrive : (s : ScenarioValue) (p : List Row) (row : Row) (h : Known s p row) → GivesAsked s (run_state s p) row
    → OnEvents (IfAccepts (HasGiven s (array_of s (run_state s p)) (run_state s (row ∷ p))))
    (row_events_by s (run_state s p).story (row_reading (run_state s p).story.bus_state row) row)
given_arrive s p row h asked = each (row_events_by s k.story d row) (row_shown s k row)
  where
    k : RunState
    k = run_state s p

    d : RowReading
    d = row_reading k.story.bus_state row

    As : ProcId → Type 0
    As = HasGiven s (array_of s k) (run_state_after s k row)

    arrived : (id : ProcId) → IsArrival k d id → As id
    arrived id w q own =
        inl (moved_stays s p row h id (λ l e item crosses. no_data_in_command d.change.before w.command)
        ∙ arrives_with s p row h asked id w)

    of_event : (e : Event) → ShownAs s k d row e → IfAccepts As e
    of_event e w id is = arrived id (subst (ShownAs s k d row) is w)

    each : (xs : List Event) → OnEvents (ShownAs s k d row) xs → OnEvents (IfAccepts As) xs
    each [] w = tt
    each (e ∷ xs) w = (of_event e w.0, each xs w.1)

pub given_start : (s : ScenarioValue) → GivenFacts s []
given_start s = open_start s (HasGiven s (array_of s (run_state s [])) (run_state s []))

pub given_next : (s : ScenarioValue) (p : List Row) (row : Row) → Known s p row → GivesAsked s (run_state s p) row
    → GivenFacts s p → GivenFacts s (row ∷ p)
given_next s p row h asked before = each_both (IfOpen Mid b) (IfOpen (HasReplyStill s k j) b)
    (IfOpen (HasGiven s b j) b) b (λ r x y none. given_still s k j r.process.id (y none) (x none)) all asked.stays
  where
    k : RunState
    k = run_state s p

    j : RunState
    j = run_state s (row ∷ p)

    b : Array
    b = array_of s j

    Mid : ProcId → Type 0
    Mid = HasGiven s (array_of s k) j

    was : OnOpen (HasGiven s (array_of s k) k) h.places.array
    was = subst (OnOpen (HasGiven s (array_of s k) k)) (here_is s p row h) before

    rows : OnOpen Mid h.places.array
    rows = each_map (IfOpen (HasGiven s (array_of s k) k) h.places.array) (IfOpen Mid h.places.array) h.places.array
        (λ r v none. given_stays s p row h asked r.process.id (v none)) was

    all : OnOpen Mid b
    all = subst (OnOpen Mid) (sym (then_is s p row h)) (open_events s Mid h.places.array h.later.array
        (row_events_by s k.story (row_reading k.story.bus_state row) row) (given_arrive s p row h asked)
        (steps_of s p row h) rows)

-- ---- as it runs

-- By the array in which it runs.
all_given : (a : Array) (c : Process) (reply : Reply) (bytes : List ℕ) → reply ≡ reply_now a c
    → GivenIn a c bytes → (is_writing c && reply.status == GOOD) ≡ false
    → (is_writing c ≡ false → length reply.bytes ≤ length bytes) → bytes ≡ moved_bytes c reply
all_given a c reply bytes same w not_both whole = go (reply.status == GOOD) refl (is_writing c) refl
  where
    none : is_writing c ≡ true → (reply.status == GOOD) ≡ false → GivenIn a c bytes → bytes ≡ []
    none writes bad (inl e) = e
    none writes bad (inr g) =
        wrong (sym (ap (λ (x : ℕ). x == GOOD) (ap (λ (r : Reply). r.status) same ∙ g.good writes)) ∙ bad)

    front : is_writing c ≡ false → GivenIn a c bytes → IsFront bytes (reply_now a c).bytes
    front reads (inl e) = front_of bytes (reply_now a c).bytes e
    front reads (inr g) = g.front reads

    go : (x : Bool) → (reply.status == GOOD) ≡ x → (y : Bool) → is_writing c ≡ y → bytes ≡ moved_bytes c reply
    go false ex true ey = none ey ex w ∙ sym (λ i. if ey i then (if ex i then c.sent else []) else reply.bytes)
    go true ex true ey = wrong (sym (λ i. ey i && ex i) ∙ not_both)
    go x ex false ey =
        let f = front ey w in
        front_all bytes f.rest reply.bytes (f.all_is ∙ ap (λ (r : Reply). r.bytes) (sym same)) (whole ey)
        ∙ sym (λ i. if ey i then (if reply.status == GOOD then c.sent else []) else reply.bytes)

reply_is : (a : Array) (c : Process) (reply : Reply) (o : Option Reply) → o ≡ Some reply → o ≡ Some (reply_now a c)
    → reply ≡ reply_now a c
reply_is a c reply o e f = same_Some reply (reply_now a c) (sym e ∙ f)

pub gives_at_run : (s : ScenarioValue) (p : List Row) (row : Row) → HasSeats s → Known s p row
    → GivesAsked s (run_state s p) row → GivenFacts s p → GivesAtRun s (run_state s p) row
gives_at_run s p row seats h asked facts q reply is not_both = by shape
  where
    k : RunState
    k = run_state s p

    d : RowReading
    d = row_reading k.story.bus_state row

    shown : List Event
    shown = row_events_by s k.story d row

    bytes : List ℕ
    bytes = (carried_here k q.id).moved.bytes

    a : Array
    a = h.places.array

    b : Array
    b = h.later.array

    shape : RunsAs q.id shown
    shape = row_runs s k row q.id is.runs

    first : RunsAs q.id shown → IsAnswer k d q.id
    first (runs_alone e) = (subst (OnEvents (ShownAs s k d row)) e (row_shown s k row)).0
    first (runs_arrived e) = (subst (OnEvents (ShownAs s k d row)) e (row_shown s k row)).0

    none : reply_in a.replies q.id ≡ None
    none = none_is (reply_in a.replies q.id)
        (ap (λ (x : Array). is_some (reply_in x.replies q.id)) (sym (here_is s p row h)) ∙ h.shown q.id
        ∙ (first shape).unanswered)

    given : reply_in b.replies q.id ≡ Some reply
    given = ap (λ (x : Array). reply_in x.replies q.id) (sym (then_is s p row h)) ∙ is.reply_is

    whole : is_writing q ≡ false → length reply.bytes ≤ length bytes
    whole reads = asked.whole q reply is reads

    standing : Steps.step s (Event.Run q.id) a ≡ Some b → GivenIn a q bytes
    standing st =
        let f = run_found s a b q.id st in
        let own : f.running.process.id ≡ q.id = running_id a q.id f.running f.running_is in
        let all : OnOpen (HasGiven s a k) a = subst
        (λ (x : Array). OnOpen (HasGiven s x k) x) (here_is s p row h) facts in
        let has : HasGiven s a k q.id = subst (HasGiven s a k) own (running_has (IfOpen (HasGiven s a k) a)
        a q.id f.running all f.running_is (ap (λ (x : ProcId). reply_in a.replies x) own ∙ none)) in
        has q is.process_is

    by : RunsAs q.id shown → bytes ≡ moved_bytes q reply
    by (runs_alone e) =
        let st : Steps.step s (Event.Run q.id) a ≡ Some b = sym (ap (array_after_events s (Some a)) e)
        ∙ steps_of s p row h in
        all_given a q reply bytes (reply_is a q reply (reply_in b.replies q.id) given
        (run_replies s a b q h.places.sound is.process_is st)) (standing st) not_both whole
    by (runs_arrived e) = go (array_step s (Event.Accept q.id) (Some a)) refl
        (sym (ap (array_after_events s (Some a)) e) ∙ steps_of s p row h)
      where
        arrival : IsArrival k d q.id
        arrival = (subst (OnEvents (ShownAs s k d row)) e (row_shown s k row)).1.0

        go : (o : Option Array) → array_step s (Event.Accept q.id) (Some a) ≡ o
            → array_step s (Event.Run q.id) o ≡ Some b → bytes ≡ moved_bytes q reply
        go None z w = none_some b w
        go (Some c) z w = all_given c q reply bytes (reply_is c q reply (reply_in b.replies q.id) given
            (run_replies s c b q (step_sound s a c (Event.Accept q.id) seats h.places.sound z) is.process_is w))
            (inl (arrives_with s p row h asked q.id arrival)) not_both whole
