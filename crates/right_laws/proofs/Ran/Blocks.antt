-- After any rows of a prompt trace each process of the plain disk array that was not answered has carried its whole
-- command block (6.4, 6.6.19, 7.2).
use Rattle.right_laws.proofs
use proofs.Names.{ℕ, ◌≡◌, ◌≤◌, arith, Bool, true, false, not, ◌&&◌, ◌==◌, ◌%◌, ◌∙◌, List, [], ◌∷◌, ◌++◌, length}
use proofs.Names.{length-append, Option, Some, None, refl, sym, ap, subst, true≢false, if◌then◌else◌, is_some, wrong}
use proofs.Names.{wrong', middle, Event, ProcId, LineSet, changes_phase, is_command, is_data, Row, Change, Connection}
use proofs.Names.{has_group_len, ScenarioValue, process_of, same_id, RowReading, row_reading, CarriedBytes, area_with}
use proofs.Names.{carried_after_byte, is_status_phase, is_whole_block, row_events_by, Item, process, abort, Link}
use proofs.Names.{phase_of, Phase, RunState, or_start, bus_of, carried_here, process_item, process_served, run_state}
use proofs.Names.{run_state_after, array_after_events, is_for_process, block_is_all, own_of, process_id, reading_is}
use proofs.Names.{self_id, TakesBlock, RowKind, still, strikes, crosses, turns, GoesOn, RowOf, Books, none_some}
use proofs.Names.{command_phase, Stood, NextStood, ItemFacts, IsAway, HasPlaces, PlaceFacts, Load, load, UndoesLoads}
use proofs.{Names.{UndoLoadFacts, OnEvents, IfOpen, OnOpen, HasBlock, BlockFacts}, Ran.Crossings.{GoesSo}}
use proofs.Ran.{Crossings.{crossing_goes, here_goes, known_served, new_here}, Lasting.{IsLasting, row_lasts}}
use proofs.Ran.{Open.{IfAccepts, each_both, each_map, open_events, open_start}, Shown.{IsArrival, ShownAs, row_shown}}
use proofs.Ran.Undone.{lasting_load, load_asks}

abbrev item_id : ProcId → Option Item → ProcId
item_id x (Some (process id)) = id
item_id x (Some (abort n)) = x
item_id x None = x

-- ---- the bytes of the command stay outside COMMAND

pub lasting_by : {A : Type 0} (g : Load → A) → IsLasting (λ c. g (load c))
lasting_by g = record {
  restored = λ c. ap g (lasting_load.restored c);
  told = λ c m. ap g (lasting_load.told c m);
  faulted = λ c b. ap g (lasting_load.faulted c b);
  refused = λ c. ap g (lasting_load.refused c);
  shown = λ c. ap g (lasting_load.shown c);
}

no_command : (c : CarriedBytes) (b : LineSet) (byte : ℕ) → is_command b ≡ false
    → (carried_after_byte c b byte).command.bytes ≡ c.command.bytes
no_command c b byte e = go (is_command b) (is_data b) (is_status_phase b) e
  where
    go : (q r t : Bool) → q ≡ false
        → (if q then record c { command = area_with c.command byte; block = c.block ++ byte ∷ [] }
        else if r then record c { moved = area_with c.moved byte }
        else if t then record c { status = area_with c.status byte } else c).command.bytes ≡ c.command.bytes
    go true r t z = wrong z
    go false true t z = refl
    go false false true z = refl
    go false false false z = refl

pub command_stays : (s : ScenarioValue) (k : RunState) (row : Row) (id : ProcId) → ((l : Link)
    → k.story.link ≡ Some l → l.item ≡ Some (process id) → (row_reading k.story.bus_state row).crosses ≡ true
    → is_command (row_reading k.story.bus_state row).change.before ≡ false)
    → UndoesLoads k row → (carried_here (run_state_after s k row) id).command.bytes ≡ (carried_here k id).command.bytes
command_stays s k row id quiet undoes = row_lasts (λ (c : CarriedBytes). (load c).command)
    (lasting_by (λ (x : Load). x.command)) s k row id
    (λ l e item crosses msg. no_command (carried_here k id) (row_reading k.story.bus_state row).change.before
    ((row_reading k.story.bus_state row).change.after.data_bits % 256) (quiet l e item crosses))
    (λ l m u e out parity undo same. ap (λ (x : Load). x.command) (undoes l m u e out parity undo)
    ∙ ap (λ (x : ProcId). (carried_here k x).command.bytes) same)

-- ---- as COMMAND is left

pub front_all : (bytes rest all : List ℕ) → bytes ++ rest ≡ all → length all ≤ length bytes → bytes ≡ all
front_all bytes rest all e h =
    let total : length all ≡ length (bytes ++ rest) = ap (λ (x : List ℕ). length x) (sym e) in
    let two = length-append bytes rest in
    let none : length rest ≡ 0 = omega arith in
    sym (append_none bytes rest none) ∙ e
  where
    append_none : (xs ys : List ℕ) → length ys ≡ 0 → xs ++ ys ≡ xs
    append_none [] [] z = refl
    append_none [] (y ∷ ys) z = absurd cc
    append_none (x ∷ xs) ys z = ap (λ (l : List ℕ). x ∷ l) (append_none xs ys z)

group_len : (c : CarriedBytes) → is_whole_block c ≡ true → has_group_len c.block ≡ true
group_len c e = middle (not (length c.block == 0)) (has_group_len c.block) (not c.struck) e

whole_bytes : (c : CarriedBytes) (cdb : List ℕ) → TakesBlock c cdb → has_group_len cdb ≡ true
    → has_group_len c.block ≡ true → c.command.bytes ≡ cdb
whole_bytes c cdb t group block =
    let all : c.block ≡ cdb = block_is_all c.block t.rest cdb t.block_is group block in
    let long : length c.block ≡ length cdb = ap (λ (x : List ℕ). length x) all in
    let at : c.command.active ≡ length c.block = t.active_is in
    let in_bytes = t.filled.active_in in
    front_all c.command.bytes t.filled.rest cdb t.filled.bytes_are (omega arith)

-- No byte crosses as a phase is left.
pub turn_silent : (s : ScenarioValue) (k : RunState) (row : Row) (n : Connection) (c : Change)
    → GoesOn s k row n c → changes_phase (row_reading k.story.bus_state row).change ≡ true
    → (row_reading k.story.bus_state row).crosses ≡ false
turn_silent s k row n c g e = go g.row_is.kind
  where
    ep : changes_phase c ≡ true
    ep = ap changes_phase (sym g.row_is.change_is) ∙ e

    go : RowKind row n c → (row_reading k.story.bus_state row).crosses ≡ false
    go (still ef stays er) = wrong (sym ep ∙ stays)
    go (strikes ef stays er) = wrong (sym ep ∙ stays)
    go (crosses dev ef stays er) = wrong (sym ep ∙ stays)
    go (turns ef z er) =
        ap (λ (d : RowReading). d.crosses) (reading_is k row n c false g.row_is (ap (λ (o : Option ℕ). is_some o) er))

arrival_block : (s : ScenarioValue) (k : RunState) (row : Row) (id : ProcId) → Books s k → HasPlaces s k
    → (k.story.bus_state.connection ≡ None → k.story.link ≡ None) → RowOf s k row → UndoesLoads k row
    → IsArrival k (row_reading k.story.bus_state row) id → HasBlock s (run_state_after s k row) id
arrival_block s k row id books places apart row_is undoes h p own = by (here_goes s k row h.link id apart row_is h.here)
  where
    by : GoesSo s k row → (carried_here (run_state_after s k row) id).command.bytes ≡ p.cdb
    by w =
        let g = w.goes in
        let served = known_served s k row w.connection w.change h.link id books g h.here.link_is h.here.item_is in
        let before : is_command (bus_of k) ≡ true =
        ap is_command (g.row_is.bus_is ∙ ap (λ (x : Change). x.before) (sym g.row_is.change_is)) ∙ h.command in
        let silent = turn_silent s k row w.connection w.change g h.turns in
        let same : p.id ≡ id = process_id s id p own in
        let here : process_served s k ≡ Some p = ap (process_item s) served ∙ own in
        let group = ((g.leaves h.turns).command p here (command_phase (bus_of k) before)).0 in
        let takes : TakesBlock (carried_here k id) p.cdb = subst (λ (x : ProcId). TakesBlock (carried_here k x) p.cdb)
        same (own_of s k p books.carry (ap (process_of s) same ∙ own)).command in
        command_stays s k row id (λ l e item z. wrong' (sym silent ∙ z)) undoes
        ∙ whole_bytes (carried_here k id) p.cdb takes group (group_len (carried_here k id) h.whole)

-- ---- a row

apart_link : (s : ScenarioValue) (p : List Row) → ItemFacts s p → (run_state s p).story.bus_state.connection ≡ None
    → (run_state s p).story.link ≡ None
apart_link s p items e = (items.items.apart e).0

-- The bytes of those that stand there do not change with the row.
pub blocks_stay : (s : ScenarioValue) (p : List Row) (row : Row) → Stood s p → NextStood s p row
    → UndoLoadFacts s p → (places : PlaceFacts s p) → OnOpen (HasBlock s (run_state s p)) places.array
    → OnOpen (HasBlock s (run_state s (row ∷ p))) places.array
blocks_stay s p row was next undo places before = go (d.crosses && is_command d.change.before) refl
  where
    k : RunState
    k = run_state s p

    j : RunState
    j = run_state_after s k row

    d : RowReading
    d = row_reading k.story.bus_state row

    stays : (id : ProcId) → ((l : Link) → k.story.link ≡ Some l → l.item ≡ Some (process id) → d.crosses ≡ true
        → is_command d.change.before ≡ false) → HasBlock s k id → HasBlock s j id
    stays id quiet has q own = command_stays s k row id quiet (load_asks s p row was next undo) ∙ has q own

    unless : (x y : Bool) → (x && y) ≡ false → x ≡ true → y ≡ false
    unless true y e z = e
    unless false y e z = wrong' z

    front : (x y : Bool) → (x && y) ≡ true → (x ≡ true) × (y ≡ true)
    front true y e = (refl, e)
    front false y e = wrong' e

    go : (q : Bool) → (d.crosses && is_command d.change.before) ≡ q → OnOpen (HasBlock s j) places.array
    go false e = each_map (IfOpen (HasBlock s k) places.array) (IfOpen (HasBlock s j) places.array) places.array
        (λ r w none. stays r.process.id (λ l x item z. unless d.crosses (is_command d.change.before) e z) (w none))
        before
    go true e = by (crossing_goes s k row next.row_is both.0)
      where
        both : (d.crosses ≡ true) × (is_command d.change.before ≡ true)
        both = front d.crosses (is_command d.change.before) e

        by : GoesSo s k row → OnOpen (HasBlock s j) places.array
        by w = served k.served refl
          where
            g : GoesOn s k row w.connection w.change
            g = w.goes

            command : phase_of (bus_of k) ≡ Phase.Command
            command = command_phase (bus_of k)
                (ap is_command (g.row_is.bus_is ∙ ap (λ (x : Change). x.before) (sym g.row_is.change_is)) ∙ both.1)

            known : (id : ProcId) (l : Link) → k.story.link ≡ Some l → l.item ≡ Some (process id)
                → k.served ≡ Some (process id)
            known id l y item = known_served s k row w.connection w.change l id was.books g y item

            none_served : (o : Option Item) → k.served ≡ o
                → ((id : ProcId) → Some (process id) ≡ o → ⊥) → OnOpen (HasBlock s j) places.array
            none_served o z f = each_map (IfOpen (HasBlock s k) places.array)
                (IfOpen (HasBlock s j) places.array) places.array (λ r v none. stays r.process.id
                (λ l y item x. absurd (f r.process.id (sym (known r.process.id l y item) ∙ z))) (v none)) before

            served : (o : Option Item) → k.served ≡ o → OnOpen (HasBlock s j) places.array
            served None z = none_served None z (λ id x. none_some (process id) (sym x))
            served (Some (abort n)) z = none_served (Some (abort n)) z (λ id x. true≢false (ap is_for_process x))
            served (Some (process x)) z =
                let new = new_here s k row w.connection w.change x places g z command in
                each_both (IsAway new.process.id) (IfOpen (HasBlock s k) places.array)
                (IfOpen (HasBlock s j) places.array) places.array (λ r far o none. stays r.process.id (λ l y item c.
                wrong (sym (ap (same_id r.process.id) (new.id_is ∙ ap (item_id x) (sym z ∙ known r.process.id l y item))
                ∙ self_id r.process.id) ∙ far)) (o none)) new.untouched.away before

-- A process that arrives with it has carried its block.
pub blocks_arrive : (s : ScenarioValue) (p : List Row) (row : Row) → Stood s p
    → NextStood s p row → ItemFacts s p → UndoLoadFacts s p → PlaceFacts s p
    → OnEvents (IfAccepts (HasBlock s (run_state s (row ∷ p))))
    (row_events_by s (run_state s p).story (row_reading (run_state s p).story.bus_state row) row)
blocks_arrive s p row was next items undo places = each (row_events_by s k.story d row) (row_shown s k row)
  where
    k : RunState
    k = run_state s p

    j : RunState
    j = run_state_after s k row

    d : RowReading
    d = row_reading k.story.bus_state row

    of_event : (e : Event) → ShownAs s k d row e → IfAccepts (HasBlock s j) e
    of_event e w id is = arrival_block s k row id was.books places (apart_link s p items) next.row_is
        (load_asks s p row was next undo) (subst (ShownAs s k d row) is w)

    each : (xs : List Event) → OnEvents (ShownAs s k d row) xs → OnEvents (IfAccepts (HasBlock s j)) xs
    each [] w = tt
    each (e ∷ xs) w = (of_event e w.0, each xs w.1)

pub block_next : (s : ScenarioValue) (p : List Row) (row : Row) → Stood s p → NextStood s p row → ItemFacts s p
    → UndoLoadFacts s p → PlaceFacts s p → PlaceFacts s (row ∷ p) → BlockFacts s p → BlockFacts s (row ∷ p)
block_next s p row was next items undo places later h = subst (OnOpen (HasBlock s (run_state s (row ∷ p))))
    (sym (ap (or_start s) later.array_is)) (open_events s (HasBlock s (run_state s (row ∷ p)))
    places.array later.array shown (blocks_arrive s p row was next items undo places)
    ((λ i. array_after_events s (sym places.array_is i) shown) ∙ later.array_is) (blocks_stay s p row was next undo
    places (subst (OnOpen (HasBlock s (run_state s p))) (ap (or_start s) places.array_is) h)))
  where
    shown : List Event
    shown = row_events_by s (run_state s p).story (row_reading (run_state s p).story.bus_state row) row

pub block_start : (s : ScenarioValue) → BlockFacts s []
block_start s = open_start s (HasBlock s (run_state s []))
