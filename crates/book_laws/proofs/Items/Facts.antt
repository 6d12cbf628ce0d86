-- What a device calls for is an item of the scenario, after any rows.
use Rattle.book_laws.proofs
use proofs.Names.{ℕ, zero, suc, ◌≡◌, ◌+◌, Bool, true, false, not, ◌&&◌, ◌∙◌, List, [], ◌∷◌, Option, Some, None, refl}
use proofs.Names.{sym, ap, subst, arith, eqb-true, if◌then◌else◌, ◌==◌, nat_le, slice_set, is_some, is_none, and_first}
use proofs.Names.{plus_none, falls, Kind, Drives, Fault, Row, Connection, MsgIn, MsgOut, ScenarioValue, AbortDef}
use proofs.Names.{CmdDef, process_if, process_by, command_at, is_initiator, restored_aims, events_aims, calling_aims}
use proofs.Names.{begun_aims, RowReading, row_reading, CarriedBytes, abort_line_at, carried_if, row_events_by, Item}
use proofs.Names.{abort, command_item, sense_item, Sent, is_done, abort_from, is_of_host, sense_from, may_send}
use proofs.Names.{open_from, command_from, or_else, item_at, Link, link_after_name, Story, empty_story, aim_of}
use proofs.Names.{is_arbitration_entry, story_with_aim, story_after_calling, story_on_free_bus, story_with_restored}
use proofs.Names.{story_after_connection, story_with_carried, story_after_out, story_after_in, story_after_byte}
use proofs.Names.{story_after_fault, story_in_connection, story_on_bus, story_by_change, is_parity_error}
use proofs.Names.{carried_after_byte_if, carried_after_fault_if, RunState, run_state, run_state_after, IsItem}
use proofs.Names.{is_process, is_abort, AimsAreItems}

-- ---- what an initiator sends next is of the scenario

abbrev IsItemIf : ScenarioValue → ℕ → Option Item → Type 0
IsItemIf s dev None = Unit {0}
IsItemIf s dev (Some item) = IsItem s dev item

aborts_are : (s : ScenarioValue) (b : Sent) (dev time i : ℕ) (aborts : List AbortDef)
    → ((m : ℕ) → abort_line_at aborts (suc m) ≡ abort_line_at s.aborts (suc (i + m)))
    → IsItemIf s dev (abort_from b dev time (suc i) aborts)
aborts_are s b dev time i [] h = tt
aborts_are s b dev time i (a ∷ aborts) h = go (a.host == dev && nat_le a.at time && not (is_done b (abort (suc i))))
    refl (subst (λ (l : ℕ). IsItemIf s dev (abort_from b dev time l aborts)) (one_more i) (aborts_are s b dev time
    (suc i) aborts (λ m. h (suc m) ∙ ap (λ (l : ℕ). abort_line_at s.aborts (suc l)) (moved i m))))
  where
    one_more : (l : ℕ) → suc (suc l) ≡ suc l + 1
    one_more l = omega arith

    moved : (l m : ℕ) → l + suc m ≡ suc l + m
    moved l m = omega arith

    go : (q : Bool) → (a.host == dev && nat_le a.at time && not (is_done b (abort (suc i)))) ≡ q
        → IsItemIf s dev (abort_from b dev time (suc i + 1) aborts)
        → IsItemIf s dev (if q then Some (abort (suc i)) else abort_from b dev time (suc i + 1) aborts)
    go true z rest = is_abort (suc i) a (ap (λ (l : ℕ). abort_line_at s.aborts (suc l)) (sym (plus_none i)) ∙ sym (h 0))
        (eqb-true a.host dev (and_first (a.host == dev) (nat_le a.at time)
        (and_first (a.host == dev && nat_le a.at time) (not (is_done b (abort (suc i)))) z)))
    go false z rest = rest

commands_are : (s : ScenarioValue) (b : Sent) (dev time i : ℕ) (commands : List CmdDef)
    → ((m : ℕ) → command_at commands (suc m) ≡ command_at s.commands (suc (i + m)))
    → IsItemIf s dev (command_from s b dev time (suc i) commands)
commands_are s b dev time i [] h = tt
commands_are s b dev time i (c ∷ commands) h = go (c.host == dev && not (is_done b (command_item (suc i))))
    (may_send s time (open_from b dev 1 s.commands) c) refl
    (subst (λ (l : ℕ). IsItemIf s dev (command_from s b dev time l commands)) (one_more i) (commands_are s b dev time
    (suc i) commands (λ m. h (suc m) ∙ ap (λ (l : ℕ). command_at s.commands (suc l)) (moved i m))))
  where
    one_more : (l : ℕ) → suc (suc l) ≡ suc l + 1
    one_more l = omega arith

    moved : (l m : ℕ) → l + suc m ≡ suc l + m
    moved l m = omega arith

    go : (q r : Bool) → (c.host == dev && not (is_done b (command_item (suc i)))) ≡ q
        → IsItemIf s dev (command_from s b dev time (suc i + 1) commands) → IsItemIf s dev
        (if q then if r then Some (command_item (suc i)) else None else command_from s b dev time (suc i + 1) commands)
    go true true z rest = is_process (record { command = suc i; sense = false })
        (process_by s (record { command = suc i; sense = false }) c)
        (ap (λ (x : Option CmdDef). process_if s (record { command = suc i; sense = false }) x)
        (ap (λ (l : ℕ). command_at s.commands (suc l)) (sym (plus_none i)) ∙ sym (h 0)))
        (eqb-true c.host dev (and_first (c.host == dev) (not (is_done b (command_item (suc i)))) z))
    go true false z rest = tt
    go false r z rest = rest

senses_are : (s : ScenarioValue) (b : Sent) (dev : ℕ) (checks : List ℕ) → IsItemIf s dev (sense_from s b dev checks)
senses_are s b dev [] = tt
senses_are s b dev (m ∷ checks) = go (senses_are s b dev checks) (command_at s.commands m) refl
  where
    later : (q : Bool) → IsItemIf s dev (sense_from s b dev checks)
        → ((is_of_host (command_at s.commands m) dev && not (is_done b (sense_item m))) ≡ q
        → q ≡ true → IsItem s dev (sense_item m))
        → (is_of_host (command_at s.commands m) dev && not (is_done b (sense_item m))) ≡ q
        → IsItemIf s dev (if q then Some (sense_item m) else sense_from s b dev checks)
    later true rest own z = own z refl
    later false rest own z = rest

    go : IsItemIf s dev (sense_from s b dev checks) → (c : Option CmdDef) → command_at s.commands m ≡ c → IsItemIf s dev
        (if is_of_host (command_at s.commands m) dev && not (is_done b (sense_item m)) then Some (sense_item m)
        else sense_from s b dev checks)
    go rest None e = subst (λ (x : Option CmdDef). IsItemIf s dev
        (if is_of_host x dev && not (is_done b (sense_item m)) then Some (sense_item m) else sense_from s b dev checks))
        (sym e) rest
    go rest (Some c) e =
        later (is_of_host (command_at s.commands m) dev && not (is_done b (sense_item m))) rest (λ z y. is_process
        (record { command = m; sense = true }) (process_by s (record { command = m; sense = true }) c)
        (ap (λ (x : Option CmdDef). process_if s (record { command = m; sense = true }) x) e)
        (eqb-true c.host dev (sym (ap (λ (x : Option CmdDef). is_of_host x dev) e)
        ∙ and_first (is_of_host (command_at s.commands m) dev) (not (is_done b (sense_item m))) (z ∙ y)))) refl

either_is : (s : ScenarioValue) (dev : ℕ) (x y : Option Item) → IsItemIf s dev x → IsItemIf s dev y
    → IsItemIf s dev (or_else x y)
either_is s dev None y h g = g
either_is s dev (Some item) y h g = h

sent_next_is : (s : ScenarioValue) (b : Sent) (dev time : ℕ) → IsItemIf s dev (item_at s b dev time)
sent_next_is s b dev time = either_is s dev (abort_from b dev time 1 s.aborts)
    (or_else (sense_from s b dev b.checks) (command_from s b dev time 1 s.commands))
    (aborts_are s b dev time 0 s.aborts (λ m. ap (λ (i : ℕ). abort_line_at s.aborts (suc i)) (none_more m))) (either_is
    s dev (sense_from s b dev b.checks) (command_from s b dev time 1 s.commands) (senses_are s b dev b.checks)
    (commands_are s b dev time 0 s.commands (λ m. ap (λ (i : ℕ). command_at s.commands (suc i)) (none_more m))))
  where
    none_more : (m : ℕ) → m ≡ 0 + m
    none_more m = omega arith

-- ---- aims change as a device enters arbitration, and else never

abbrev AreItems : ScenarioValue → List (Option Item) → Type 0
AreItems s aims = (dev : ℕ) (item : Item) → aim_of aims dev ≡ Some item → IsItem s dev item

items_as : (s : ScenarioValue) (a b : List (Option Item)) → a ≡ b → AreItems s b → AreItems s a
items_as s a b e h = subst (λ (x : List (Option Item)). AreItems s x) (sym e) h

-- Of the devices from this one on.
with_item : (s : ScenarioValue) (from : ℕ) (all : List (Option Item)) (at : ℕ) (x : Option Item)
    → IsItemIf s (from + at) x → ((dev : ℕ) (item : Item) → aim_of all dev ≡ Some item → IsItem s (from + dev) item)
    → (dev : ℕ) (item : Item) → aim_of (slice_set all at x) dev ≡ Some item → IsItem s (from + dev) item
with_item s from [] at x g h dev item e = h dev item e
with_item s from (a ∷ all) zero x g h zero item e = subst (λ (z : Option Item). IsItemIf s (from + 0) z) e g
with_item s from (a ∷ all) zero x g h (suc dev) item e = h (suc dev) item e
with_item s from (a ∷ all) (suc at) x g h zero item e = h 0 item e
with_item s from (a ∷ all) (suc at) x g h (suc dev) item e = subst (λ (l : ℕ). IsItem s l item)
    (sym (moved from dev)) (with_item s (suc from) all at x (subst (λ (l : ℕ). IsItemIf s l x) (moved from at) g)
    (λ d i f. subst (λ (l : ℕ). IsItem s l i) (moved from d) (h (suc d) i f)) dev item e)
  where
    moved : (l m : ℕ) → l + suc m ≡ suc l + m
    moved l m = omega arith

aimed : (s : ScenarioValue) (b : Story) (row : Row) → AreItems s b.aims → AreItems s (story_with_aim s b row).aims
aimed s b row h = λ dev item e. subst (λ (l : ℕ). IsItem s l item) (none_more dev)
    (with_item s 0 b.aims row.dev (if is_initiator s.hosts row.dev then item_at s b.sent row.dev row.time else None)
    (subst (λ (l : ℕ). IsItemIf s l (if is_initiator s.hosts row.dev then item_at s b.sent row.dev row.time else None))
    (sym (none_more row.dev)) (own (is_initiator s.hosts row.dev)))
    (λ d i f. subst (λ (l : ℕ). IsItem s l i) (sym (none_more d)) (h d i f)) dev item e)
  where
    none_more : (m : ℕ) → 0 + m ≡ m
    none_more m = omega arith

    own : (q : Bool) → IsItemIf s row.dev (if q then item_at s b.sent row.dev row.time else None)
    own true = sent_next_is s b.sent row.dev row.time
    own false = tt

free_aims : (s : ScenarioValue) (b : Story) (d : RowReading) (row : Row) → AreItems s b.aims
    → AreItems s (story_on_free_bus s b d row).aims
free_aims s b d row h = go (is_arbitration_entry b d) (falls d.change.before.sel d.change.after.sel)
  where
    go : (q r : Bool) → AreItems s
        (if q then story_with_aim s b row else if r then story_after_calling s b b.bus_state.call else b).aims
    go true r = aimed s b row h
    go false true =
        items_as s (story_after_calling s b b.bus_state.call).aims b.aims (calling_aims s b b.bus_state.call) h
    go false false = h

pub carried_aims : (b : Story) (c : Option CarriedBytes) → (story_with_carried b c).aims ≡ b.aims
carried_aims b None = refl
carried_aims b (Some c) = refl

pub out_aims : (b : Story) (l : Link) (m : Option MsgOut) → (story_after_out b l m).aims ≡ b.aims
out_aims b l None = refl
out_aims b l (Some m) = carried_aims _ (if is_parity_error m then l.undo else None)

pub in_aims : (s : ScenarioValue) (b : Story) (l : Link) (m : Option MsgIn) → (story_after_in s b l m).aims ≡ b.aims
in_aims s b l None = refl
in_aims s b l (Some m) = carried_aims _ _ ∙ go (is_none l.item)
  where
    go :
        (q : Bool) → (if q then story_with_restored b (link_after_name b.sent s.commands l m).item else b).aims ≡ b.aims
    go true = restored_aims b (link_after_name b.sent s.commands l m).item
    go false = refl

pub byte_aims : (b : Story) (l : Link) (d : RowReading) → (story_after_byte b l d).aims ≡ b.aims
byte_aims b l d = go d.change.before.msg
  where
    go : (q : Bool)
        → (if q then b else story_with_carried b (carried_after_byte_if (carried_if b l.item) d)).aims ≡ b.aims
    go true = refl
    go false = carried_aims b (carried_after_byte_if (carried_if b l.item) d)

pub fault_aims : (b : Story) (l : Link) (kind : Kind) → (story_after_fault b l kind).aims ≡ b.aims
fault_aims b l (Drives lines) = refl
fault_aims b l (Fault bit) = carried_aims b (carried_after_fault_if (carried_if b l.item) b.bus_state.crossed)

pub connected_aims : (s : ScenarioValue) (b : Story) (l : Option Link) (d : RowReading) (row : Row)
    → (story_in_connection s b l d row).aims ≡ b.aims
connected_aims s b None d row = refl
connected_aims s b (Some l) d row = go d.crosses (is_some d.out) (is_some d.into)
  where
    go : (q r t : Bool) → (if q then (if r then story_after_out b l d.out else if t then story_after_in s b l d.into
        else story_after_byte b l d) else story_after_fault b l row.kind).aims ≡ b.aims
    go true true t = out_aims b l d.out
    go true false true = in_aims s b l d.into
    go true false false = byte_aims b l d
    go false r t = fault_aims b l row.kind

bus_aims : (s : ScenarioValue) (b : Story) (m o : Option Connection) (d : RowReading) (row : Row) → AreItems s b.aims
    → AreItems s (story_on_bus s b m o d row).aims
bus_aims s b None None d row h = free_aims s b d row h
bus_aims s b None (Some n) d row h = items_as s (story_after_connection b n).aims b.aims (begun_aims b n) h
bus_aims s b (Some m) None d row h = h
bus_aims s b (Some m) (Some n) d row h =
    items_as s (story_in_connection s b b.link d row).aims b.aims (connected_aims s b b.link d row) h

change_aims : (s : ScenarioValue) (b : Story) (d : RowReading) (row : Row) → AreItems s b.aims
    → AreItems s (story_by_change s b d row).aims
change_aims s b d row h = go d.change.after.rst
  where
    go : (q : Bool)
        → AreItems s (if q then record b { link = None } else story_on_bus s b b.bus_state.connection d.next d row).aims
    go true = h
    go false = bus_aims s b b.bus_state.connection d.next d row h

pub aims_on : (s : ScenarioValue) (k : RunState) (row : Row) → AimsAreItems s k
    → AimsAreItems s (run_state_after s k row)
aims_on s k row h =
    let d : RowReading = row_reading k.story.bus_state row in
    items_as s (run_state_after s k row).story.aims (story_by_change s k.story d row).aims
    (events_aims s (story_by_change s k.story d row) (row_events_by s k.story d row)) (change_aims s k.story d row h)

pub aims_are : (s : ScenarioValue) (rows : List Row) → AimsAreItems s (run_state s rows)
aims_are s [] = first
  where
    first : (dev : ℕ) (item : Item) → aim_of (empty_story).aims dev ≡ Some item → IsItem s dev item
    first zero item e = cc
    first (suc zero) item e = cc
    first (suc (suc zero)) item e = cc
    first (suc (suc (suc zero))) item e = cc
    first (suc (suc (suc (suc zero)))) item e = cc
    first (suc (suc (suc (suc (suc zero))))) item e = cc
    first (suc (suc (suc (suc (suc (suc zero)))))) item e = cc
    first (suc (suc (suc (suc (suc (suc (suc zero))))))) item e = cc
    first (suc (suc (suc (suc (suc (suc (suc (suc dev)))))))) item e = cc
aims_are s (row ∷ rows) = aims_on s (run_state s rows) row (aims_are s rows)
