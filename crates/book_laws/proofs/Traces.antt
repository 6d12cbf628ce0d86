-- The books hold after every row of a trace, and each tells what was to be said.
use Rattle.book_laws.proofs
use proofs.Names.{ℕ, ◌≡◌, ◌<◌, Bool, true, false, not, ◌&&◌, ◌||◌, ◌∙◌, List, [], ◌∷◌, Option, Some, None, refl, sym}
use proofs.Names.{ap, subst, true≢false, or_right, same_Some, if◌then◌else◌, is_some, ◌==◌, ◌%◌, and_false, eq_self}
use proofs.Names.{falls, changes_phase, connection_of, connection_after, receiver_of, Row, Change, Connection}
use proofs.Names.{ScenarioValue, Process, row_reading, Item, aim_of, phase_of, Ready, has_ends, is_known_process}
use proofs.Names.{is_true_leaving, is_true_crossing, is_true_beginning, is_true_hearing, is_faithful, faithful}
use proofs.Names.{RunState, bus_of, process_item, process_served, run_state, run_state_after, exchange_after}
use proofs.Names.{served_after, item_if, leaving_of, ready_of, AreUnits, AllCarryOwn, SendsOwn, Opens, Gives, IsQuiet}
use proofs.Names.{IsItem, is_process, is_abort, AimsAreItems, Knows, IsRowIn, Speaks, IsReadyFor, Begins, RowOf, apart}
use proofs.{Names.{begins, goes_on, ends, under_reset, AreRowsOf, Books}, Carried.Facts.{carry_on, all_carry}}
use proofs.{Carried.Facts.{process_none}, Faith.{row_is_faithful}, Given.{Messages.{gives_first}, Rows.{gives_on}}}
use proofs.{Items.Facts.{aims_are}, Known.{First.{knows_first}, Rows.{knows_on}}, Messages.First.{opens_first}}
use proofs.{Messages.{First.{opens_on}, Stays.{quiet_first, quiet_on}}, Said.{First.{speaks_first}, Rows.{speaks_on}}}

-- ---- small facts

none_some : (x : Connection) → (let a : Option Connection = None in a) ≡ Some x → ⊥
none_some x e = cc

abbrev or_connection : Connection → Option Connection → Connection
or_connection x None = x
or_connection x (Some y) = y

same_connection : (x y : Connection) → Some x ≡ Some y → x ≡ y
same_connection x y e = ap (or_connection x) e

-- No byte crosses without a connection.
apart_carries_none : (k : RunState) (row : Row) → k.story.bus_state.connection ≡ None
    → (row_reading k.story.bus_state row).crosses ≡ false
apart_carries_none k row e =
    ap (λ (x : Option Connection). is_some (receiver_of x (row_reading k.story.bus_state row).change)) e

sends_none : (s : ScenarioValue) (k : RunState) (row : Row) → (row_reading k.story.bus_state row).crosses ≡ false
    → SendsOwn s k row
sends_none s k row e p f g = absurd (true≢false (sym g ∙ e))

-- ---- a phase has begun in a connection alone

unbegun_on : (s : ScenarioValue) (k : RunState) (row : Row)
    → (k.story.bus_state.connection ≡ None → k.exchange.begun ≡ false) → (row_reading k.story.bus_state row).next ≡ None
    → (run_state_after s k row).exchange.begun ≡ false
unbegun_on s k row h e = go k.story.bus_state.connection refl
  where
    go : (m : Option Connection) → k.story.bus_state.connection ≡ m → (run_state_after s k row).exchange.begun ≡ false
    go None f = (λ i. (exchange_after s k row (row_reading k.story.bus_state row)
        (f i) (e i) (leaving_of s k k.story.bus_state.connection)).begun)
        ∙ h f
    go (Some m) f = λ i. (exchange_after s k row (row_reading k.story.bus_state row) (f i) (e i)
        (leaving_of s k k.story.bus_state.connection)).begun

-- ---- the books of a row

-- The connection after the row, with what holds in it.
books_in : (s : ScenarioValue) (k : RunState) (row : Row) (n : Connection) → AllCarryOwn s (run_state_after s k row)
    → (row_reading k.story.bus_state row).next ≡ Some n → Speaks s (run_state_after s k row) n
    → Gives (run_state_after s k row) → Knows s (run_state_after s k row) n → IsQuiet (run_state_after s k row)
    → Opens (run_state_after s k row) n → Books s (run_state_after s k row)
books_in s k row n carry e speaks gives knows quiet opens = record {
  carry = carry;
  unbegun = λ f. absurd (none_some n (sym f ∙ e));
  speaks = λ m f z. subst (λ (x : Connection). Speaks s (run_state_after s k row) x)
      (same_connection n m (sym e ∙ f)) speaks;
  gives = λ m f z. gives;
  knows =
      λ m f z. subst (λ (x : Connection). Knows s (run_state_after s k row) x) (same_connection n m (sym e ∙ f)) knows;
  quiet = λ m f z. quiet;
  opens =
      λ m f z. subst (λ (x : Connection). Opens (run_state_after s k row) x) (same_connection n m (sym e ∙ f)) opens;
}

books_apart : (s : ScenarioValue) (k : RunState) (row : Row) → AllCarryOwn s (run_state_after s k row)
    → (k.story.bus_state.connection ≡ None → k.exchange.begun ≡ false) → (row_reading k.story.bus_state row).next ≡ None
    → Books s (run_state_after s k row)
books_apart s k row carry h e = record {
  carry = carry;
  unbegun = λ f. unbegun_on s k row h e;
  speaks = λ m f z. absurd (none_some m (sym e ∙ f));
  gives = λ m f z. absurd (none_some m (sym e ∙ f));
  knows = λ m f z. absurd (none_some m (sym e ∙ f));
  quiet = λ m f z. absurd (none_some m (sym e ∙ f));
  opens = λ m f z. absurd (none_some m (sym e ∙ f));
}

-- RST ends a connection.
reset_apart : (k : RunState) (row : Row) → (row_reading k.story.bus_state row).change.after.rst ≡ true
    → k.story.bus_state.connection ≡ None → (row_reading k.story.bus_state row).next ≡ None
reset_apart k row r e =
    let c : Change = (row_reading k.story.bus_state row).change in
    (λ i. connection_after (e i) k.story.bus_state.call c row)
    ∙ (λ i. if falls c.before.sel c.after.sel && c.after.bsy && not (r i)
    then connection_of k.story.bus_state.call row.time else None)
    ∙ ap (λ (q : Bool). if q then connection_of k.story.bus_state.call row.time else None)
    (and_false (falls c.before.sel c.after.sel && c.after.bsy))

books_reset : (s : ScenarioValue) (k : RunState) (row : Row) → AllCarryOwn s (run_state_after s k row)
    → (k.story.bus_state.connection ≡ None → k.exchange.begun ≡ false)
    → (row_reading k.story.bus_state row).change.after.rst ≡ true → Books s (run_state_after s k row)
books_reset s k row carry h r = record {
  carry = carry;
  unbegun = λ f. unbegun_on s k row h f;
  speaks = λ m f z. absurd (true≢false (sym r ∙ z));
  gives = λ m f z. absurd (true≢false (sym r ∙ z));
  knows = λ m f z. absurd (true≢false (sym r ∙ z));
  quiet = λ m f z. absurd (true≢false (sym r ∙ z));
  opens = λ m f z. absurd (true≢false (sym r ∙ z));
}

ready_unit : (s : ScenarioValue) (k : RunState) (n : Connection) → IsReadyFor s k n
    → (r : Ready) → ready_of s k n.target ≡ Some r → r.process.unit < 8
ready_unit s k n h r e = subst (λ (x : Ready). x.process.unit < 8) (ap (or_ready r) (sym h.ready_is ∙ e)) h.unit_in
  where
    or_ready : Ready → Option Ready → Ready
    or_ready x None = x
    or_ready x (Some y) = y

next_is : (k : RunState) (row : Row) (n : Connection) (c : Change) → IsRowIn k row n c
    → (row_reading k.story.bus_state row).next ≡ Some n
next_is k row n c h = (λ i. connection_after (h.connection_is i) k.story.bus_state.call (h.change_is i) row)
    ∙ ap (λ (q : Bool). if q then Some n else None) h.stands

pub books_on : (s : ScenarioValue) (k : RunState) (row : Row) → AreUnits s → AimsAreItems s k → RowOf s k row
    → Books s k → Books s (run_state_after s k row)
books_on s k row u aims (apart e f) h =
    books_apart s k row (carry_on s k row (sends_none s k row (apart_carries_none k row e)) h.carry) h.unbegun f
books_on s k row u aims (begins n b) h = books_in s k row n
    (carry_on s k row (sends_none s k row (apart_carries_none k row b.first.connection_is)) h.carry) b.first.next_is
    (speaks_first s k row n u aims b.first (λ e. let a = b.selects e in (a.item, a.aim_is)))
    (gives_first s k row n b.first (λ e. ready_unit s k n (b.reselects e))) (knows_first s k row n b.first)
    (quiet_first s k row n b.first) (opens_first s k row n u aims b)
books_on s k row u aims (goes_on n c g) h =
    let con = g.row_is.connection_is in
    books_in s k row n (carry_on s k row g.sends h.carry) (next_is k row n c g.row_is)
    (speaks_on s k row n c g.row_is g.says (h.speaks n con g.calm))
    (gives_on s k row n c g.row_is g.gives (h.gives n con g.calm))
    (knows_on s k row n c g.row_is (h.gives n con g.calm) g.gives g.names (h.knows n con g.calm))
    (quiet_on s k row n c g.row_is (h.quiet n con g.calm))
    (opens_on s k row n c g (h.opens n con g.calm))
books_on s k row u aims (ends n g) h =
    books_apart s k row (carry_on s k row (sends_none s k row g.carries_none) h.carry) h.unbegun g.next_is
books_on s k row u aims (under_reset r e) h =
    books_reset s k row (carry_on s k row (sends_none s k row e) h.carry) h.unbegun r

-- ---- what the row tells

silent : (s : ScenarioValue) (k : RunState) (row : Row) → (row_reading k.story.bus_state row).crosses ≡ false
    → k.exchange.begun ≡ false → is_true_hearing s k (row_reading k.story.bus_state row) ≡ true
silent s k row e b = (λ i. if e i then is_true_crossing s k (process_served s k)
    ((row_reading k.story.bus_state row).change.after.data_bits % 256) (phase_of (bus_of k))
    else if changes_phase (row_reading k.story.bus_state row).change && b i
    then is_known_process k (phase_of (bus_of k)) && is_true_leaving s k (process_served s k) (phase_of (bus_of k))
    else true)
    ∙ ap (λ (q : Bool).
    if q then is_known_process k (phase_of (bus_of k)) && is_true_leaving s k (process_served s k) (phase_of (bus_of k))
    else true) (and_false (changes_phase (row_reading k.story.bus_state row).change))

-- The connection is made between the ends of the process.
ends_are : (s : ScenarioValue) (k : RunState) (n : Connection) (c : Process) → c.initiator ≡ n.initiator
    → c.target ≡ n.target → has_ends (Some c) n ≡ true
ends_are s k n c ei et =
    (λ i. ei i == n.initiator && et i == n.target) ∙ (λ i. eq_self n.initiator i && eq_self n.target i)

ends_if : (s : ScenarioValue) (k : RunState) (n : Connection) (c : Option Process)
    → ((x : Process) → c ≡ Some x → (x.initiator ≡ n.initiator) × (x.target ≡ n.target)) → has_ends c n ≡ true
ends_if s k n None h = refl
ends_if s k n (Some c) h = let e = h c refl in ends_are s k n c e.0 e.1

item_initiator : (s : ScenarioValue) (dev : ℕ) (item : Item) → IsItem s dev item
    → (c : Process) → process_item s (Some item) ≡ Some c → c.initiator ≡ dev
item_initiator s dev _ (is_process id c e own) q f =
    sym (ap (λ (x : Process). x.initiator) (same_Some c q (sym e ∙ f))) ∙ own
item_initiator s dev _ (is_abort n a e own) q f = absurd (process_none q f)

begins_truly : (s : ScenarioValue) (k : RunState) (row : Row) (n : Connection) → AimsAreItems s k → Begins s k row n
    → has_ends (process_item s (served_after s k None (Some n))) n ≡ true
begins_truly s k row n aims b = go n.reselected refl
  where
    go : (q : Bool) → n.reselected ≡ q → has_ends
        (process_item s (if n.reselected then item_if (ready_of s k n.target) else aim_of k.story.aims n.initiator)) n
        ≡ true
    go true e =
        let r = b.reselects e in
        ap (λ (q : Bool). has_ends
        (process_item s (if q then item_if (ready_of s k n.target) else aim_of k.story.aims n.initiator)) n) e
        ∙ ap (λ (x : Option Ready). has_ends (process_item s (item_if x)) n) r.ready_is
        ∙ ap (λ (x : Option Process). has_ends x n) r.process_is ∙ ends_are s k n r.process r.initiator_is r.target_is
    go false e =
        let a = b.selects e in
        ap (λ (q : Bool). has_ends
        (process_item s (if q then item_if (ready_of s k n.target) else aim_of k.story.aims n.initiator)) n) e
        ∙ ap (λ (x : Option Item). has_ends (process_item s x) n) a.aim_is
        ∙ ends_if s k n (process_item s (Some a.item))
        (λ p f. (item_initiator s n.initiator a.item (aims n.initiator a.item a.aim_is) p f, a.target_is p f))

pub row_faithful : (s : ScenarioValue) (k : RunState) (row : Row) → AreUnits s → AimsAreItems s k → RowOf s k row
    → Books s k → is_faithful s k (row_reading k.story.bus_state row) ≡ true
row_faithful s k row u aims (apart e f) h =
    (λ i. is_true_beginning s k (e i) (f i) && ((row_reading k.story.bus_state row).change.after.rst
    || is_true_hearing s k (row_reading k.story.bus_state row)))
    ∙ or_right (row_reading k.story.bus_state row).change.after.rst
    (is_true_hearing s k (row_reading k.story.bus_state row))
    (silent s k row (apart_carries_none k row e) (h.unbegun e))
row_faithful s k row u aims (begins n b) h =
    let e = b.first.connection_is in
    (λ i. is_true_beginning s k (e i) (b.first.next_is i) && ((row_reading k.story.bus_state row).change.after.rst
    || is_true_hearing s k (row_reading k.story.bus_state row)))
    ∙ (λ i. begins_truly s k row n aims b i && or_right (row_reading k.story.bus_state row).change.after.rst
    (is_true_hearing s k (row_reading k.story.bus_state row))
    (silent s k row (apart_carries_none k row e) (h.unbegun e)) i)
row_faithful s k row u aims (goes_on n c g) h =
    let con = g.row_is.connection_is in
    row_is_faithful s k row n u (h.speaks n con g.calm)
    (h.knows n con g.calm) h.carry g.phase con g.sends g.runs g.leaves
row_faithful s k row u aims (ends n g) h = row_is_faithful s k row n u (h.speaks n g.connection_is g.calm)
    (h.knows n g.connection_is g.calm) h.carry g.phase g.connection_is (sends_none s k row g.carries_none)
    (λ e. absurd (true≢false (sym e ∙ g.carries_none))) g.leaves
row_faithful s k row u aims (under_reset r e) h = go k.story.bus_state.connection refl
  where
    go : (m : Option Connection) → k.story.bus_state.connection ≡ m
        → is_faithful s k (row_reading k.story.bus_state row) ≡ true
    go None f = (λ i. is_true_beginning s k (f i) (reset_apart k row r f i)
        && (r i || is_true_hearing s k (row_reading k.story.bus_state row)))
    go (Some m) f = (λ i. is_true_beginning s k (f i) (row_reading k.story.bus_state row).next
        && (r i || is_true_hearing s k (row_reading k.story.bus_state row)))

-- ---- all rows

first_books : (s : ScenarioValue) → AllCarryOwn s (run_state s []) → Books s (run_state s [])
first_books s carry = record {
  carry = carry;
  unbegun = λ e. refl;
  speaks = λ m f z. absurd (none_some m f);
  gives = λ m f z. absurd (none_some m f);
  knows = λ m f z. absurd (none_some m f);
  quiet = λ m f z. absurd (none_some m f);
  opens = λ m f z. absurd (none_some m f);
}

pub books_are : (s : ScenarioValue) (rows : List Row) → AreUnits s → AreRowsOf s rows → Books s (run_state s rows)
books_are s [] u h = first_books s (all_carry s [] tt)
books_are s (row ∷ rows) u h = books_on s (run_state s rows) row u (aims_are s rows) h.1 (books_are s rows u h.0)

pub trace_faithful : (s : ScenarioValue) (rows : List Row) → AreUnits s → AreRowsOf s rows → faithful s rows ≡ true
trace_faithful s [] u h = refl
trace_faithful s (row ∷ rows) u h = λ i. trace_faithful s rows u h.0 i
    && row_faithful s (run_state s rows) row u (aims_are s rows) h.1 (books_are s rows u h.0) i
