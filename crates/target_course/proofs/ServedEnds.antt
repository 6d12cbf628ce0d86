-- A process that is served in a connection is one between its two ends, and its number is the one by which it is
-- served.
use Rattle.std.proofs.Common.{◌≡◌, Bool, true, false, List, [], ◌∷◌, ◌∙◌, refl, sym, subst, Option, Some, None}
use Rattle.std.specs.Prelude.{◌||◌, if◌then◌else◌}
use Rattle.std.proofs.lemmas.Bool.{and_parts}
use Rattle.std.proofs.lemmas.Option.{same_Some}
use Rattle.bus_trace.specs.declared.Row.{Row}
use Rattle.bus_trace.specs.declared.changes.Change.{Change}
use Rattle.bus_trace.specs.declared.connection.Connection.{Connection}
use Rattle.bus_trace.specs.declared.selection.Call.{Call}
use Rattle.bus_trace.specs.Terms.{connection, connection_after}
use Rattle.scenario.specs.Value.{ScenarioValue}
use Rattle.due_model.specs.story_model.specs.BusState.{RowReading, row_reading}
use Rattle.due_model.specs.Faithful.{has_ends, is_true_beginning, is_true_hearing, is_faithful, faithful}
use Rattle.due_model.specs.Plain.{IsPlain, AreOfDevices}
use Rattle.due_model.specs.RunState.{RunState, process_item, process_served}
use Rattle.due_model.specs.RunSteps.{run_state, served_after}

-- ---- the connection that stands stays the same

pub connection_stays :
    (before after : Option Connection) (call : Option Call) (c : Change) (row : Row) (m n : Connection)
    → connection_after before call c row ≡ after → before ≡ Some m → after ≡ Some n → m ≡ n
connection_stays before after call c row m n e b a =
    go c.after.bsy ((λ i. connection_after (sym b i) call c row) ∙ e ∙ a)
  where
    go : (q : Bool) → (if q then Some m else None) ≡ Some n → m ≡ n
    go true f = same_Some m n f
    go false f = cc

-- ---- the ends

ends_on : (s : ScenarioValue) (rows : List Row) (row : Row) (n : Connection)
    → IsPlain s rows (run_state s rows) → IsPlain s (row ∷ rows) (run_state s (row ∷ rows))
    → is_faithful s (run_state s rows) (row_reading (run_state s rows).story.bus_state row) ≡ true
    → connection (row ∷ rows) ≡ Some n
    → ((m : Connection) → connection rows ≡ Some m → has_ends (process_served s (run_state s rows)) m ≡ true)
    → has_ends (process_served s (run_state s (row ∷ rows))) n ≡ true
ends_on s rows row n p q f e before = go k.story.bus_state.connection refl r.next refl begins
  where
    k : RunState
    k = run_state s rows

    r : RowReading
    r = row_reading k.story.bus_state row

    begins : is_true_beginning s k k.story.bus_state.connection r.next ≡ true
    begins = (and_parts (is_true_beginning s k k.story.bus_state.connection r.next)
        (r.change.after.rst || is_true_hearing s k r) f).0

    last : r.next ≡ Some n
    last = q.connection ∙ e

    go : (b : Option Connection) → k.story.bus_state.connection ≡ b → (a : Option Connection) → r.next ≡ a
        → is_true_beginning s k b a ≡ true → has_ends (process_item s (served_after s k b a)) n ≡ true
    go b eb None ea t = (let bad : None ≡ Some n = sym ea ∙ last in cc)
    go None eb (Some m) ea t =
        let same : m ≡ n = same_Some m n (sym ea ∙ last) in
        subst (λ (x : Connection). has_ends (process_item s (served_after s k None (Some m))) x ≡ true) same t
    go (Some m) eb (Some o) ea t =
        let same : m ≡ n = connection_stays k.story.bus_state.connection
        r.next k.story.bus_state.call r.change row m n refl eb last in
        before n (sym p.connection ∙ eb ∙ (λ i. Some (same i)))

-- As its beginning is true, a connection is between the two ends of the process that is served in it.
pub ends_are : (s : ScenarioValue) (rows : List Row)
    → ((before : List Row) → AreOfDevices before → IsPlain s before (run_state s before)) → AreOfDevices rows
    → faithful s rows ≡ true → (n : Connection) → connection rows ≡ Some n
    → has_ends (process_served s (run_state s rows)) n ≡ true
ends_are s [] plain d f n e = cc
ends_are s (row ∷ rows) plain d f n e =
    let two = and_parts (faithful s rows)
    (is_faithful s (run_state s rows) (row_reading (run_state s rows).story.bus_state row)) f in
    ends_on s rows row n (plain rows d.1) (plain (row ∷ rows) d) two.1 e (λ m b. ends_are s rows plain d.1 two.0 m b)
