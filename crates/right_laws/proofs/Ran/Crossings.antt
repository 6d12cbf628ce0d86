-- A row of a prompt trace with which a byte crosses outside the message phases, and one with which COMMAND is left or
-- COMMAND COMPLETE is taken: a row of a connection, whose initiator knows the process that is served; and where that
-- stands then (6.1.5, 6.1.6).
use Rattle.right_laws.proofs
use proofs.Names.{◌≡◌, ◌⊎◌, inl, inr, Bool, true, false, not, ◌&&◌, ◌∙◌, Option, Some, None, refl, sym, ap, subst}
use proofs.Names.{same_Some, if◌then◌else◌, is_some, wrong, wrong', ProcId, LineSet, is_command, is_data, receiver_of}
use proofs.Names.{Row, Change, Connection, ScenarioValue, Process, process_of, Array, row_reading, is_status_phase}
use proofs.Names.{process, Link, phase_of, Phase, RunState, bus_of, process_item, process_served, process_id, Knows}
use proofs.Names.{GoesOn, RowOf, apart as row_apart, begins, goes_on, under_reset, Books, none_some, no_byte}
use proofs.{Names.{IsUntouched, HasPlaces, PlacedIf, PlacedIn}, Ran.Shown.{IsHere}}
use Rattle.trace_laws.specs.book_laws.specs.Traces.{ends}

-- ---- a row of a connection

pub record GoesSo (s : ScenarioValue) (k : RunState) (row : Row) : Type 0 where
  pub connection : Connection
  pub change : Change
  pub goes : GoesOn s k row connection change

pub crossing_goes : (s : ScenarioValue) (k : RunState) (row : Row) → RowOf s k row
    → (row_reading k.story.bus_state row).crosses ≡ true → GoesSo s k row
crossing_goes s k row (row_apart con next) e = no_byte
    (receiver_of k.story.bus_state.connection (row_reading k.story.bus_state row).change)
    (ap (λ (o : Option Connection). receiver_of o (row_reading k.story.bus_state row).change) con) e
crossing_goes s k row (begins n b) e = no_byte
    (receiver_of k.story.bus_state.connection (row_reading k.story.bus_state row).change)
    (ap (λ (o : Option Connection). receiver_of o (row_reading k.story.bus_state row).change) b.first.connection_is) e
crossing_goes s k row (goes_on n c g) e = record { connection = n; change = c; goes = g }
crossing_goes s k row (ends n g) e = wrong' (sym g.carries_none ∙ e)
crossing_goes s k row (under_reset on none) e = wrong' (sym none ∙ e)

-- So is one whose initiator knows a process, and after which a connection stands and RST is false.
pub here_goes : (s : ScenarioValue) (k : RunState) (row : Row) (l : Link) (id : ProcId)
    → (k.story.bus_state.connection ≡ None → k.story.link ≡ None) → RowOf s k row
    → IsHere k (row_reading k.story.bus_state row) l id → GoesSo s k row
here_goes s k row l id apart (row_apart con next) h = none_some l (sym (apart con) ∙ h.link_is)
here_goes s k row l id apart (begins n b) h = none_some l (sym (apart b.first.connection_is) ∙ h.link_is)
here_goes s k row l id apart (goes_on n c g) h = record { connection = n; change = c; goes = g }
here_goes s k row l id apart (ends n g) h =
    wrong' (sym (ap (λ (o : Option Connection). is_some o) g.next_is) ∙ h.stands)
here_goes s k row l id apart (under_reset on none) h = wrong (sym on ∙ h.calm)

-- ---- the process that is known is served

pub known_served : (s : ScenarioValue) (k : RunState) (row : Row) (n : Connection) (c : Change) (l : Link) (id : ProcId)
    → Books s k → GoesOn s k row n c → k.story.link ≡ Some l → l.item ≡ Some (process id) → k.served ≡ Some (process id)
known_served s k row n c l id books g link item =
    elim (knows.item_is) [ inl z ↦ sym z ∙ same | inr z ↦ none_some (process id) (sym z.1 ∙ same) ]
  where
    knows : Knows s k n
    knows = books.knows n g.row_is.connection_is g.calm

    same : knows.link.item ≡ Some (process id)
    same = ap (λ (x : Link). x.item) (same_Some knows.link l (sym knows.link_is ∙ link)) ∙ item

-- Where it stands in the plain disk array, once a phase has begun.
pub record IsPlaced (s : ScenarioValue) (k : RunState) (a : Array) (id : ProcId) : Type 0 where
  pub process : Process
  pub process_is : process_of s id ≡ Some process
  pub id_is : process.id ≡ id
  pub served : process_served s k ≡ Some process
  pub placed : PlacedIn a process k.exchange.plan k.handshakes (bus_of k).atn (phase_of (bus_of k))

pub placed_here :
    (s : ScenarioValue) (k : RunState) (row : Row) (n : Connection) (c : Change) (id : ProcId) (h : HasPlaces s k)
    → GoesOn s k row n c → k.served ≡ Some (process id) → k.exchange.begun ≡ true → IsPlaced s k h.array id
placed_here s k row n c id h g served begun =
    let w = h.of_scenario id served in
    let here : process_served s k ≡ Some w.0 = ap (process_item s) served ∙ w.1 in
    record {
      process = w.0;
      process_is = w.1;
      id_is = process_id s id w.0 w.1;
      served = here;
      placed = subst (λ (q : Bool). PlacedIf q h.array w.0 k.exchange.plan k.handshakes (bus_of k).atn
          (phase_of (bus_of k))) begun (h.placed n g.row_is.connection_is g.calm w.0 here);
    }

-- In COMMAND it has not arrived.
pub record IsNew (s : ScenarioValue) (a : Array) (id : ProcId) : Type 0 where
  pub process : Process
  pub id_is : process.id ≡ id
  pub untouched : IsUntouched a process.id

pub new_here :
    (s : ScenarioValue) (k : RunState) (row : Row) (n : Connection) (c : Change) (id : ProcId) (h : HasPlaces s k)
    → GoesOn s k row n c → k.served ≡ Some (process id) → phase_of (bus_of k) ≡ Phase.Command → IsNew s h.array id
new_here s k row n c id h g served command =
    let w = h.of_scenario id served in
    record {
      process = w.0;
      id_is = process_id s id w.0 w.1;
      untouched = by w.0 k.exchange.begun
          (subst (λ (x : Phase). PlacedIf k.exchange.begun h.array w.0 k.exchange.plan k.handshakes (bus_of k).atn x)
          command (h.placed n g.row_is.connection_is g.calm w.0 (ap (process_item s) served ∙ w.1)));
    }
  where
    by : (t : Process) (q : Bool) → PlacedIf q h.array t k.exchange.plan k.handshakes (bus_of k).atn Phase.Command
        → IsUntouched h.array t.id
    by t true z = z
    by t false z = z

-- ---- phases by lines

pub data InBytes (b : LineSet) : Type 0 where
  in_command : phase_of b ≡ Phase.Command → is_command b ≡ true → InBytes b
  in_data : (phase_of b ≡ Phase.DataIn) ⊎ (phase_of b ≡ Phase.DataOut) → is_command b ≡ false → is_data b ≡ true
      → InBytes b
  in_status : phase_of b ≡ Phase.Status → is_command b ≡ false → is_data b ≡ false → is_status_phase b ≡ true
      → InBytes b

pub byte_phase : (b : LineSet) → b.msg ≡ false → InBytes b
byte_phase b e = go b.cd b.io refl refl
  where
    phase : (d i : Bool) → b.cd ≡ d → b.io ≡ i → phase_of b
        ≡ (if d then (if i then Phase.Status else Phase.Command) else if i then Phase.DataIn else Phase.DataOut)
    phase d i f g = λ j. if e j then (if g j then Phase.MessageIn else Phase.MessageOut)
        else if f j then (if g j then Phase.Status else Phase.Command) else if g j then Phase.DataIn else Phase.DataOut

    command : (d i : Bool) → b.cd ≡ d → b.io ≡ i → is_command b ≡ (d && not i)
    command d i f g = λ j. not (e j) && f j && not (g j)

    of_data : (d : Bool) → b.cd ≡ d → is_data b ≡ not d
    of_data d f = λ j. not (e j) && not (f j)

    of_status : (d i : Bool) → b.cd ≡ d → b.io ≡ i → is_status_phase b ≡ (d && i)
    of_status d i f g = λ j. not (e j) && f j && g j

    go : (d i : Bool) → b.cd ≡ d → b.io ≡ i → InBytes b
    go true true f g =
        in_status (phase true true f g) (command true true f g) (of_data true f) (of_status true true f g)
    go true false f g = in_command (phase true false f g) (command true false f g)
    go false true f g = in_data (inl (phase false true f g)) (command false true f g) (of_data false f)
    go false false f g = in_data (inr (phase false false f g)) (command false false f g) (of_data false f)
