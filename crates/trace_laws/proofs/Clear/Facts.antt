-- That nothing has struck a process that is open and has no answer, after a row, whatever it is, as long as no
-- connection serves it.
use Rattle.trace_laws.proofs
use proofs.Names.{◌≡◌, ◌⊎◌, inl, inr, Bool, true, false, ◌∙◌, Option, Some, None, refl, sym, ap, subst, true≢false, ◌<◌}
use proofs.Names.{not, ◌&&◌, List, ◌∷◌, [], ℕ, same_Some, if◌then◌else◌, is_some, Event, ProcId, change_of, rises}
use proofs.Names.{LineSet, receiver_in, connection, connection_after, Kind, Drives, Fault, Row, Change, Connection}
use proofs.Names.{MsgIn, ScenarioValue, Obeys, same_id, carried_id, RowReading, row_reading, CarriedBytes, carried_of}
use proofs.Names.{carried_after_fault, carried_or_nothing, carried_if, item_loss_events, bus_free_events, Item, process}
use proofs.Names.{abort, has_item, sense_item, Link, link_after_name, LastMessage, plain, Story, story_after_events}
use proofs.Names.{story_with_carried, carried_after_fault_if, story_after_fault, story_by_change, aim_of, phase_of}
use proofs.Names.{Ready, Phase, IsPrompt, RunState, bus_of, carried_here, run_state_after, run_state, served_after}
use proofs.Names.{item_if, ready_of, InConnection, in_connection, put_other, Gives, is_in_phase, Knows, RowKind, still}
use proofs.Names.{strikes, crosses, turns, IsRowIn, IsFirstRow, reading_in, GoesOn, Books, Ends, RowOf, apart, begins}
use proofs.Names.{goes_on, ends, under_reset, change_plain, least_is, none_some, StoryWay, story_way, not_unless}
use proofs.Names.{by_bool, Stood, NextStood, UndoesServed, is_marked, ItemFacts, PlaceFacts, IsLeaving, rst_raised}
use proofs.Names.{IsUnshown, items_fresh, items_ready, items_sent, begins_undoes, goes_undoes, none_item, names_or}
use proofs.Names.{IsNot, fault_id, byte_other, out_other, in_other, lost_over, SameSaved, over_row, apart_same}
use proofs.Names.{ends_same, begins_same, item_not, goes_other, left_tells, IsFresh, TellFacts, StandsClear, ClearBooks}
use proofs.{Names.{ClearFacts, IsClear, FailFacts, SentAsLeft}, Closes.Ends.{EndsHere, ends_row, ends_low, lost_by}}
use proofs.{Closes.Ends.{lost_in}, Failures.{Away.{reset_same, apart_clear}, Bytes.{SameFail, clear_as, row_carries}}}
use proofs.{Failures.{First.{BeginsClear}, Left.{fails_as_left, freed_as_left}}, Places.EndTells.{EndTold, end_told}}
use proofs.{Places.{EndTells.{end_begun}, Ends.{free_shown}, Joins.{sends_none}}, Runs.Rows.{Serves, it, another}}
use proofs.Runs.Rows.{serves}
use Rattle.story_laws.proofs.Pointers.Begins.{same_process}
use Rattle.story_laws.proofs.Pointers.Ends.{command_over}
use Rattle.story_laws.specs.row_laws.proofs.Common.StoryWays as ways
use Rattle.trace_laws.proofs.Failures.Away as away

-- ---- of one process

-- What is over stays so, and so does an answer.
stands_on : (s : ScenarioValue) (k : RunState) (row : Row) (id : ProcId)
    → SameSaved (carried_here (run_state_after s k row) id) (carried_here k id)
    → (IsClear (carried_here k id) → IsClear (carried_here (run_state_after s k row) id)) → StandsClear k id
    → StandsClear (run_state_after s k row) id
stands_on s k row id same clear h = record {
  clear = λ open_is none. clear (h.clear (not_unless (has_item k.story.sent.over (process id))
      (has_item (run_state_after s k row).story.sent.over (process id)) (λ e. over_row s k row (process id) e) open_is)
      (not_unless (is_marked (carried_here k id))
      (is_marked (carried_here (run_state_after s k row) id)) same.marked none));
}

pub over_stands : (k : RunState) (id : ProcId) → has_item k.story.sent.over (process id) ≡ true → StandsClear k id
over_stands k id e = record { clear = λ open_is none. absurd (true≢false (sym e ∙ open_is)) }

-- No connection stands before the row, nor after it.
pub apart_stands : (s : ScenarioValue) (k : RunState) (row : Row) (id : ProcId) → k.story.bus_state.connection ≡ None
    → (row_reading k.story.bus_state row).next ≡ None → StandsClear k id → StandsClear (run_state_after s k row) id
apart_stands s k row id con next h =
    stands_on s k row id (apart_same s k row id (inr (con, next))) (λ c. apart_clear s k row id con c) h

-- One begins.
pub begins_stands : (s : ScenarioValue) (k : RunState) (row : Row) (n : Connection) (id : ProcId) → IsFirstRow k row n
    → StandsClear k id → StandsClear (run_state_after s k row) id
begins_stands s k row n id b h = stands_on s k row id (begins_same s k row n id b.connection_is b.next_is b.calm)
    (λ c. apart_clear s k row id b.connection_is c) h

-- One ends.
pub ends_stands : (s : ScenarioValue) (k : RunState) (row : Row) (n : Connection) (id : ProcId)
    → k.story.bus_state.connection ≡ Some n → (row_reading k.story.bus_state row).next ≡ None → StandsClear k id
    → StandsClear (run_state_after s k row) id
ends_stands s k row n id con next h = stands_on s k row id (ends_same s k row n id con next) (λ c. clear_as
    (carried_here k id) (carried_here (run_state_after s k row) id) (away.ends_same s k row n id con next) c) h

-- It is clear, or has an answer, as the connection that serves it ends.
pub freed_stands : (s : ScenarioValue) (k : RunState) (row : Row) (n : Connection) (id : ProcId)
    → k.story.bus_state.connection ≡ Some n → (row_reading k.story.bus_state row).next ≡ None
    → (is_marked (carried_here k id) ≡ true) ⊎ IsClear (carried_here k id) → StandsClear (run_state_after s k row) id
freed_stands s k row n id con next h = ends_stands s k row n id con next (by h)
  where
    by : (is_marked (carried_here k id) ≡ true) ⊎ IsClear (carried_here k id) → StandsClear k id
    by (inl e) = record { clear = λ open_is none. absurd (true≢false (sym e ∙ none)) }
    by (inr c) = record { clear = λ open_is none. c }

-- RST is true after the row.
pub reset_stands : (s : ScenarioValue) (k : RunState) (row : Row) (id : ProcId)
    → (row_reading k.story.bus_state row).change.after.rst ≡ true → StandsClear k id
    → StandsClear (run_state_after s k row) id
reset_stands s k row id on h = stands_on s k row id (apart_same s k row id (inl on))
    (λ c. clear_as (carried_here k id) (carried_here (run_state_after s k row) id) (reset_same s k row id on) c) h

-- ---- in a connection that does not serve it

-- A fault strikes a byte of the process of the connection alone.
fault_not : (b : Story) (l : Link) (kind : Kind) (id : ProcId) → IsNot id l.item
    → carried_of (story_after_fault b l kind).carried id ≡ carried_of b.carried id
fault_not b l (Drives lines) id other = refl
fault_not b l (Fault bit) id other = go l.item other b.bus_state.crossed
  where
    go : (item : Option Item) → IsNot id item → (c : Option Change)
        → carried_of (story_with_carried b (carried_after_fault_if (carried_if b item) c)).carried id
        ≡ carried_of b.carried id
    go None f c = refl
    go (Some (abort n)) f c = refl
    go (Some (process x)) f None = put_other b.carried (carried_of b.carried x) x id (carried_id b.carried x) (f x refl)
    go (Some (process x)) f (Some c) = put_other b.carried (carried_after_fault (carried_of b.carried x) c.before) x id
        (fault_id (carried_of b.carried x) c.before ∙ carried_id b.carried x) (f x refl)

abbrev NamesOr : ScenarioValue → RunState → Connection → Change → Bool → Type 0
NamesOr s k n c now =
    (l : Link) (m : MsgIn) → k.story.link ≡ Some l → (reading_in k.story.bus_state n c now).into ≡ Some m
    → ((link_after_name k.story.sent s.commands l m).item ≡ k.served)
    ⊎ ((link_after_name k.story.sent s.commands l m).item ≡ None)

other_same : (s : ScenarioValue) (k : RunState) (row : Row) (n : Connection) (c : Change) (id : ProcId) (now : Bool)
    → IsRowIn k row n c → is_some (receiver_in n c) ≡ now → Knows s k n → UndoesServed k → IsNot id k.served
    → NamesOr s k n c now → SameFail (carried_here k id) (carried_here (run_state_after s k row) id)
other_same s k row n c id now r en knows undoes other names = subst
    (λ (x : CarriedBytes). SameFail x (carried_here (run_state_after s k row) id))
    (go (story_way s k.story knows.link d row))
    (row_carries s k row n c now knows.link r en knows.link_is id)
  where
    d : RowReading
    d = reading_in k.story.bus_state n c now

    own : (knows.link.item ≡ k.served) ⊎ (knows.link.item ≡ None)
    own = elim knows.item_is [ inl z ↦ inl z | inr z ↦ inr z.1 ]

    go : {after : Story} → StoryWay s k.story knows.link d row after
        → carried_of after.carried id ≡ carried_here k id
    go (ways.stays _) = fault_not k.story knows.link row.kind id (item_not id k n knows.link.item other own)
    go (ways.says o _ _) = out_other k.story knows.link o id (λ u z. other u.id (undoes knows.link u knows.link_is z))
    go (ways.carries _ _ _) = byte_other k.story knows.link d id (item_not id k n knows.link.item other own)
    go (ways.hears m _ _ e) = in_other s k.story knows.link m id (item_not id k n
        (link_after_name k.story.sent s.commands knows.link m).item other (names knows.link m knows.link_is e))

-- ---- a connection goes on

pub goes_clear : (s : ScenarioValue) (k : RunState) (row : Row) (n : Connection) (c : Change) → Books s k
    → GoesOn s k row n c → ClearBooks k → ClearBooks (run_state_after s k row)
goes_clear s k row n c was g h = go r.kind
  where
    j : RunState
    j = run_state_after s k row

    r : IsRowIn k row n c
    r = g.row_is

    knows : Knows s k n
    knows = was.knows n r.connection_is g.calm

    gives : Gives k
    gives = was.gives n r.connection_is g.calm

    undoes : UndoesServed k
    undoes = h.undoes n r.connection_is g.calm

    made : (phase now fault : Bool) → is_some (receiver_in n c) ≡ now → InConnection s k row n c phase now fault
        → ClearBooks j
    made phase now fault en i = record {
      away = λ id other.
          let apart : IsNot id k.served = λ x e. other x (i.served_is ∙ e) in
          let names : NamesOr s k n c now = λ l m el em. names_or s k row n c now l m r en knows g gives el em in
          stands_on s k row id (goes_other s k row n c id now r en knows undoes apart names) (λ w. clear_as
          (carried_here k id) (carried_here j id) (other_same s k row n c id now r en knows undoes apart names) w)
          (h.away id apart);
      reset = λ on id. absurd (true≢false (sym on ∙ ap (λ (l : LineSet). l.rst) i.bus_is ∙ r.calm));
      undoes = λ m e off. goes_undoes s k row n c now r en knows i.served_is undoes;
    }

    none_crosses : receiver_in n c ≡ None → is_some (receiver_in n c) ≡ false
    none_crosses e = ap (λ (z : Option ℕ). is_some z) e

    go : RowKind row n c → ClearBooks j
    go (still ef ep er) =
        made false false false (none_crosses er) (in_connection s k row n c false false false r ep (none_crosses er) ef)
    go (strikes ef ep er) =
        made false false true (none_crosses er) (in_connection s k row n c false false true r ep (none_crosses er) ef)
    go (crosses dev ef ep er) = made false true false (ap (λ (z : Option ℕ). is_some z) er)
        (in_connection s k row n c false true false r ep (ap (λ (z : Option ℕ). is_some z) er) ef)
    go (turns ef ep er) =
        made true false false (none_crosses er) (in_connection s k row n c true false false r ep (none_crosses er) ef)

-- ---- the other rows

-- Before which it holds of all.
pub all_clear : (k : RunState) → ((id : ProcId) → StandsClear k id)
    → ((n : Connection) → k.story.bus_state.connection ≡ Some n → (bus_of k).rst ≡ false → UndoesServed k)
    → ClearBooks k
all_clear k all undoes = record { away = λ id other. all id; reset = λ on id. all id; undoes = undoes }

pub none_served : (k : RunState) (id : ProcId) → ClearBooks k → k.served ≡ None → StandsClear k id
none_served k id h none = h.away id (λ x e. no_item x (sym none ∙ e))
  where
    no_item : (x : ProcId) → (let o : Option Item = None in o) ≡ Some (process x) → same_id x id ≡ false
    no_item x e = absurd cc

pub apart_books : (s : ScenarioValue) (k : RunState) (row : Row) → k.story.bus_state.connection ≡ None
    → (row_reading k.story.bus_state row).next ≡ None → k.served ≡ None → ClearBooks k
    → ClearBooks (run_state_after s k row)
apart_books s k row con next none h = all_clear (run_state_after s k row)
    (λ id. apart_stands s k row id con next (none_served k id h none)) (λ n e off. none_some n (sym next ∙ e))

pub begins_books : (s : ScenarioValue) (k : RunState) (row : Row) (n : Connection) → IsFirstRow k row n
    → k.served ≡ None → ClearBooks k → ClearBooks (run_state_after s k row)
begins_books s k row n b none h = all_clear (run_state_after s k row)
    (λ id. begins_stands s k row n id b (none_served k id h none)) (λ m e off. begins_undoes s k row n b)

-- ---- As the connection that serves a process ends, it is over, or has an answer, or nothing has struck it (6.1.1,
-- 6.6.5, 6.6.6).

-- ---- it is lost

lost_now : (s : ScenarioValue) (k : RunState) (row : Row) (l : Link) (id : ProcId)
    → k.story.link ≡ Some l → (row_reading k.story.bus_state row).change.after.rst ≡ false
    → (row_reading k.story.bus_state row).next ≡ None → l.item ≡ Some (process id) → l.last ≡ plain
    → has_item (run_state_after s k row).story.sent.over (process id) ≡ true
lost_now s k row l id link calm next item last =
    ap (λ (x : List Event). has_item (story_after_events s changed x).sent.over (process id))
    (free_shown s k row l link calm next ∙ ap (λ (x : LastMessage). bus_free_events s l x) last
    ∙ ap item_loss_events item) ∙ lost_over s changed id
  where
    changed : Story
    changed = story_by_change s k.story (row_reading k.story.bus_state row) row

-- ---- a row with which a connection ends, RST being false

ends_calm : (s : ScenarioValue) (p : List Row) (row : Row) (n : Connection) (id : ProcId) → Obeys s
    → IsPrompt s (row ∷ p) → Stood s p → TellFacts s p → FailFacts s p → PlaceFacts s p → SentAsLeft s p row
    → Ends s (run_state s p) row n → (row_reading (run_state s p).story.bus_state row).change.after.rst ≡ false
    → (run_state s p).served ≡ Some (process id) → StandsClear (run_state s (row ∷ p)) id
ends_calm s p row n id o prompt was facts fails places sent g calm served = go (phase_of (bus_of k)) refl
  where
    k : RunState
    k = run_state s p

    knows : Knows s k n
    knows = was.books.knows n g.connection_is g.calm

    h : EndsHere s p row n
    h = ends_row s p row n o prompt was g calm

    told : EndTold k knows.link
    told = end_told s p row n knows.link o prompt was places
        (left_tells s p row o prompt was facts (fails_as_left s p row o prompt was sent fails)) g calm knows.link_is

    begun : k.exchange.begun ≡ true
    begun = end_begun s p row n o prompt was g calm

    leaving : IsLeaving s p row n
    leaving = record {
      stands = h.con;
      calm = h.off;
      calm_after = sym (ap (λ (x : Change). x.after.rst)
          (change_plain s row p was.standing.devices (least_is s p row prompt.1).inside))
          ∙ calm;
      begun = begun;
      leaves = inr g.next_is;
    }

    -- outside MESSAGE IN it is lost
    loses : (phase_of (bus_of k) ≡ Phase.MessageIn → ⊥) → StandsClear (run_state s (row ∷ p)) id
    loses other = over_stands (run_state s (row ∷ p)) id (lost_now s k row knows.link id knows.link_is calm g.next_is
        (told.named id served) (lost_by s p n knows.link id was facts.last g knows.link_is served other
        (λ z. lost_in s p row n knows.link id o prompt was facts.last g calm knows.link_is served z) begun))

    apart : (x : Phase) → phase_of (bus_of k) ≡ x → is_in_phase x ≡ false → phase_of (bus_of k) ≡ Phase.MessageIn → ⊥
    apart x e f z = absurd (true≢false (ap is_in_phase (sym z ∙ e) ∙ f))

    go : (x : Phase) → phase_of (bus_of k) ≡ x → StandsClear (run_state s (row ∷ p)) id
    go Phase.MessageIn e = freed_stands s k row n id g.connection_is g.next_is (freed_as_left s p row n id o prompt was
        fails leaving served e (ends_low s p row n o prompt was g calm e) (told.next id served e))
    go Phase.MessageOut e = loses (apart Phase.MessageOut e refl)
    go Phase.Command e = loses (apart Phase.Command e refl)
    go Phase.Status e = loses (apart Phase.Status e refl)
    go Phase.DataIn e = loses (apart Phase.DataIn e refl)
    go Phase.DataOut e = loses (apart Phase.DataOut e refl)

-- ---- a row that raises RST

not_open : (a b : Bool) → a ≡ true → ((a && not b) ≡ true → true ≡ false) → b ≡ true
not_open a true e f = refl
not_open a false e f = absurd (true≢false (f (λ i. e i && true)))

pub reset_over : (s : ScenarioValue) (p : List Row) (row : Row) (id : ProcId) → IsPrompt s (row ∷ p)
    → Stood s p → PlaceFacts s p → ItemFacts s (row ∷ p) → (bus_of (run_state s p)).rst ≡ false
    → (row_reading (run_state s p).story.bus_state row).change.after.rst ≡ true
    → (run_state s p).served ≡ Some (process id) → has_item (run_state s (row ∷ p)).story.sent.over (process id) ≡ true
reset_over s p row id prompt was places after off on served = go id.sense refl
  where
    k : RunState
    k = run_state s p

    j : RunState
    j = run_state s (row ∷ p)

    lt : row.dev < 8
    lt = (least_is s p row prompt.1).inside

    change : (row_reading k.story.bus_state row).change ≡ change_of p row
    change = change_plain s row p was.standing.devices lt

    raised :
        rises (row_reading k.story.bus_state row).change.own.rst (row_reading k.story.bus_state row).change.next.rst
        ≡ true
    raised = ap (λ (x : Change). rises x.own.rst x.next.rst) change
        ∙ rst_raised p row lt (ap (λ (x : LineSet). x.rst) (sym was.plain.bus) ∙ off)
        (ap (λ (x : Change). x.after.rst) (sym change) ∙ on)

    sent : has_item k.story.sent.sent (process id) ≡ true
    sent = places.sent id served

    go : (q : Bool) → id.sense ≡ q → has_item j.story.sent.over (process id) ≡ true
    go false e = let own = places.of_scenario id served in command_over s k row id own.0 own.1 e sent on raised
    go true e = ap (has_item j.story.sent.over) sense ∙ not_open
        (has_item j.story.sent.sent (sense_item id.command)) (has_item j.story.sent.over (sense_item id.command))
        (ap (λ (x : List Item). has_item x (sense_item id.command)) (sends_none s k row (inr on))
        ∙ ap (has_item k.story.sent.sent) (sym sense) ∙ sent) (λ z. sym on ∙ (after.items.senses id.command z).1)
      where
        sense : process id ≡ sense_item id.command
        sense = λ i. process (record { command = id.command; sense = e i })

-- ---- either

pub ends_served : (s : ScenarioValue) (p : List Row) (row : Row) (n : Connection) (id : ProcId) → Obeys s
    → IsPrompt s (row ∷ p) → Stood s p → TellFacts s p → FailFacts s p → PlaceFacts s p → ItemFacts s (row ∷ p)
    → SentAsLeft s p row → Ends s (run_state s p) row n → (run_state s p).served ≡ Some (process id)
    → StandsClear (run_state s (row ∷ p)) id
ends_served s p row n id o prompt was facts fails places after sent g served =
    by_bool (row_reading (run_state s p).story.bus_state row).change.after.rst
    (λ on. over_stands (run_state s (row ∷ p)) id (reset_over s p row id prompt was places after g.calm on served))
    (λ calm. ends_calm s p row n id o prompt was facts fails places sent g calm served)

-- ---- As a connection begins nothing has struck the process that it serves; and what this asks of every row.

-- ---- before any row

pub clear_start : (s : ScenarioValue) → ClearFacts s []
clear_start s = record { away = λ id other. start id; reset = λ on id. start id; undoes = λ n e off. none_some n e }
  where
    start : (id : ProcId) → StandsClear (run_state s []) id
    start id = record { clear = λ open_is none. record { failure = refl; struck = refl } }

-- ---- as a connection begins

-- A process that was not sent has carried nothing.
unsent_clear : (s : ScenarioValue) (p : List Row) (id : ProcId) → ItemFacts s p
    → has_item (run_state s p).story.sent.sent (process id) ≡ false → IsClear (carried_here (run_state s p) id)
unsent_clear s p id items e = subst (λ (x : Option CarriedBytes). IsClear (carried_or_nothing x id))
    (sym ((items_sent s p items).carried id e)) (record { failure = refl; struck = refl })

pub clear_asks : (s : ScenarioValue) (p : List Row) (row : Row)
    → Obeys s → IsPrompt s (row ∷ p) → Stood s p → ItemFacts s p
    → ((n : Connection) → connection p ≡ None → connection (row ∷ p) ≡ Some n → IsUnshown s (run_state s p) n)
    → ClearFacts s p → BeginsClear s p row
clear_asks s p row o prompt was items unshown h n id alone after calm served = apart_clear s k row id con
    (by_bool n.reselected (λ e. again e (ready_of s k n.target) refl (anew true e)) (λ e. selected e (anew false e)))
  where
    k : RunState
    k = run_state s p

    con : k.story.bus_state.connection ≡ None
    con = was.plain.connection ∙ alone

    next : (row_reading k.story.bus_state row).next ≡ Some n
    next = (λ i. connection_after (was.plain.connection i) (was.plain.call i)
        (change_plain s row p was.standing.devices (least_is s p row prompt.1).inside i) row)
        ∙ after

    none : k.served ≡ None
    none = (items.items.apart con).1

    anew : (q : Bool) → n.reselected ≡ q
        → (if q then item_if (ready_of s k n.target) else aim_of k.story.aims n.initiator) ≡ Some (process id)
    anew q e = ap (λ (x : Bool). if x then item_if (ready_of s k n.target) else aim_of k.story.aims n.initiator) (sym e)
        ∙ sym (λ i. served_after s k (con i) (next i)) ∙ served

    again : n.reselected ≡ true → (r : Option Ready) → ready_of s k n.target ≡ r → item_if r ≡ Some (process id)
        → IsClear (carried_here k id)
    again e None er f = none_item id f
    again e (Some r) er f = subst (λ (x : ProcId). IsClear (carried_here k x)) (same_process r.process.id id f)
        ((h.away r.process.id (λ x z. none_item x (sym none ∙ z))).clear (items_ready s p n.target r items er).opens
        (unshown n alone after e r er))

    selected : n.reselected ≡ false → aim_of k.story.aims n.initiator ≡ Some (process id) → IsClear (carried_here k id)
    selected e aim =
        let f : IsFresh k n = items_fresh s p row n o prompt was items alone after e in
        let same : f.item ≡ process id = same_Some f.item (process id) (sym f.aim_is ∙ aim) in
        unsent_clear s p id items (ap (λ (x : Item). has_item k.story.sent.sent x) (sym same) ∙ f.unsent)

-- ---- the next row

pub clear_next : (s : ScenarioValue) (p : List Row) (row : Row) → Obeys s → IsPrompt s (row ∷ p) → Stood s p
    → NextStood s p row → TellFacts s p → FailFacts s p → PlaceFacts s p → ItemFacts s (row ∷ p) → SentAsLeft s p row
    → ClearFacts s p → ClearFacts s (row ∷ p)
clear_next s p row o prompt was nx facts fails places after sent h = go nx.row_is
  where
    k : RunState
    k = run_state s p

    j : RunState
    j = run_state s (row ∷ p)

    none : k.story.bus_state.connection ≡ None → k.served ≡ None
    none e = (facts.items.items.apart e).1

    reset : (row_reading k.story.bus_state row).change.after.rst ≡ true → (id : ProcId) → StandsClear j id
    reset on id = by (bus_of k).rst refl (serves k.served id)
      where
        by : (q : Bool) → (bus_of k).rst ≡ q → Serves k.served id → StandsClear j id
        by true e other = reset_stands s k row id on (h.reset e id)
        by false e (another other) = reset_stands s k row id on (h.away id other)
        by false e (it served) = over_stands j id (reset_over s p row id prompt was places after e on served)

    go : RowOf s k row → ClearFacts s (row ∷ p)
    go (apart con next) = apart_books s k row con next (none con) h
    go (begins n b) = begins_books s k row n b.first (none b.first.connection_is) h
    go (goes_on n c g) = goes_clear s k row n c was.books g h
    go (ends n g) = all_clear j (λ id. each id (serves k.served id)) (λ m e off. none_some m (sym g.next_is ∙ e))
      where
        each : (id : ProcId) → Serves k.served id → StandsClear j id
        each id (another other) = ends_stands s k row n id g.connection_is g.next_is (h.away id other)
        each id (it served) = ends_served s p row n id o prompt was facts fails places after sent g served
    go (under_reset on none_crosses) = all_clear j (reset on) (λ n e off. absurd (true≢false (sym on ∙ off)))
