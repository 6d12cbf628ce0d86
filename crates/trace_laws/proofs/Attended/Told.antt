-- Each row of a prompt trace is truly told, so the trace tells what its devices show.
use Rattle.trace_laws.proofs
use proofs.Names.{inl, inr, ◌≡◌, ◌⊎◌, ◌<◌, Bool, true, false, not, ◌∙◌, List, [], ◌∷◌, Option, Some, None, refl, sym}
use proofs.Names.{ap, if◌then◌else◌, is_some, Event, change_of, rises, LineSet, changes_phase, is_command, connection}
use proofs.Names.{connection_after, bus, Row, Change, Connection, ScenarioValue, Obeys, array_after, Array, RowReading}
use proofs.Names.{row_reading, carried_if, phase_events, link_events, turn_events_if, begun, phase_of, run_state_plain}
use proofs.Names.{IsLeast, due, IsPrompt, IsPlain, AreOfDevices, RunState, bus_of, run_state, serving_of, same_events}
use proofs.Names.{id_of, events_of_ends_in, is_true_telling, obeys_fits, units_are, AreUnits, Knows, change_plain}
use proofs.Names.{least_is, from_stage, obeys_latencies, link_calm, LinkStage, AnyStage, linked, out_no_status}
use proofs.Names.{link_none, connection_row, RowFacts, stays, ends_here, Stood, link_connection, link_phase}
use proofs.Names.{apart_connection, AreRepliesShown, TellsAsLeft, self_events, Here, turned, ended, no_events}
use proofs.{Names.{unbegun_lines, goes_told, stops_told}, Attended.Facts.{none_array}}
use Rattle.story_laws.specs.link_laws.specs.LinkStages.{apart}

-- ---- after it RST is true, or no connection stands

reset_told : (s : ScenarioValue) (k : RunState) (row : Row) (d : RowReading) → d.change.after.rst ≡ true
    → is_true_telling s k row d ≡ true
reset_told s k row d on =
    (λ i. same_events (if on i then shown else events_of_ends_in s k k.story.bus_state.connection d)
    (if on i then shown else link_events s k.story k.story.link d))
    ∙ self_events shown
  where
    shown : List Rattle.due_model.specs.bus_base.specs.declared.Event.Event
    shown = if rises d.change.own.rst d.change.next.rst then Event.Reset row.dev ∷ [] else []

apart_told : (s : ScenarioValue) (k : RunState) (row : Row) (d : RowReading) → d.change.after.rst ≡ false
    → k.story.bus_state.connection ≡ None → k.story.link ≡ None → is_true_telling s k row d ≡ true
apart_told s k row d off con link = λ i. same_events (if off i then shown else events_of_ends_in s k (con i) d)
    (if off i then shown else link_events s k.story (link i) d)
  where
    shown : List Rattle.due_model.specs.bus_base.specs.declared.Event.Event
    shown = if rises d.change.own.rst d.change.next.rst then Event.Reset row.dev ∷ [] else []

-- ---- in a connection

record Standing (s : ScenarioValue) (p : List Row) (row : Row) (n : Connection) : Type 0 where
  units : AreUnits s
  devices : AreOfDevices p
  below : row.dev < 8
  was : Stood s p
  stage : LinkStage s p n
  facts : RowFacts s p row n
  calm_after : (bus (row ∷ p)).rst ≡ false
  shown : AreRepliesShown s (run_state s p)
  array : Array
  array_is : (run_state s p).array ≡ Some array
  tells : TellsAsLeft s p row

linked_told : (s : ScenarioValue) (p : List Row) (row : Row) (n : Connection) → Standing s p row n
    → is_true_telling s (run_state s p) row (row_reading (run_state s p).story.bus_state row) ≡ true
linked_told s p row n h = go h.facts
  where
    k : RunState
    k = run_state s p

    pl : IsPlain s p k
    pl = run_state_plain s p h.devices

    con : connection p ≡ Some n
    con = link_connection s p n h.stage

    calm : (bus p).rst ≡ false
    calm = link_calm s p n h.stage

    knows : Knows s k n
    knows = h.was.books.knows n (pl.connection ∙ con) (ap (λ (l : LineSet). l.rst) pl.bus ∙ calm)

    change : (row_reading k.story.bus_state row).change ≡ change_of p row
    change = change_plain s row p h.devices h.below

    here : Rattle.story_laws.specs.book_laws.specs.Reactions.IsOver s k n → begun p ≡ true
        → (changes_phase (row_reading k.story.bus_state row).change ≡ true)
        ⊎ ((row_reading k.story.bus_state row).next ≡ None)
        → Here s k n knows.link
    here over b leaves = record {
      units = h.units;
      speaks = h.was.books.speaks n (pl.connection ∙ con) (ap (λ (l : LineSet). l.rst) pl.bus ∙ calm);
      link_is = knows.link_is;
      item_is = knows.item_is;
      known = λ m. ap (λ (l : LineSet). l.cd) pl.bus
          ∙ (link_phase s p n h.stage (ap (λ (l : LineSet). l.msg) (sym pl.bus) ∙ m)).0;
      begun = pl.begun ∙ b;
      over = over;
      tells = h.tells n
          (record { stands = con; calm = calm; calm_after = h.calm_after; begun = pl.begun ∙ b; leaves = leaves });
      shown = h.shown;
      array = h.array;
      array_is = h.array_is;
      plays = (λ i. array_after s (pl.story i).history) ∙ sym pl.array;
    }

    go : RowFacts s p row n → is_true_telling s k row (row_reading k.story.bus_state row) ≡ true
    go (stays g) = goes_told s k row n g.change knows.link g.row_is knows.link_is left
      where
        left : changes_phase g.change ≡ true → (q : Bool) → k.exchange.begun ≡ q → (if not q then []
            else turn_events_if (serving_of s k n.target) (bus_of k).atn (phase_of (bus_of k)) (id_of k.served))
            ≡ phase_events s k.story (carried_if k.story knows.link.item) g.change
        left ep false b =
            sym (no_events s k.story (carried_if k.story knows.link.item) g.change
            (ap is_command (sym g.row_is.bus_is ∙ pl.bus) ∙ unbegun_lines s p n h.stage (sym pl.begun ∙ b))
            (out_no_status g.change.after (g.first ep (sym pl.begun ∙ b))))
        left ep true b = turned s k n knows.link g.change (here (g.over ep (sym pl.begun ∙ b)) (sym pl.begun ∙ b)
            (inl (ap changes_phase g.row_is.change_is ∙ ep))) g.row_is.bus_is (g.whereto ep (sym pl.begun ∙ b))
    go (ends_here g) =
        let next : (row_reading k.story.bus_state row).next ≡ None =
        (λ i. connection_after (pl.connection i) (pl.call i) (change i) row) ∙ g.stopped in
        stops_told s k row n knows.link (pl.connection ∙ con) knows.link_is
        (ap (λ (x : Change). x.after.rst) change ∙ h.calm_after) next (pl.begun ∙ g.begun_is)
        (ended s k n knows.link (here g.over g.begun_is (inr next)) g.whereto)

-- ---- any row

pub tells_row : (s : ScenarioValue) (p : List Row) (row : Row) → Obeys s → IsPrompt s (row ∷ p) → Stood s p
    → AreRepliesShown s (run_state s p) → is_some (run_state s p).array ≡ true → TellsAsLeft s p row
    → is_true_telling s (run_state s p) row (row_reading (run_state s p).story.bus_state row) ≡ true
tells_row s p row o prompt was shown some tells = go (bus (row ∷ p)).rst refl was.here
  where
    k : RunState
    k = run_state s p

    m : IsLeast (due s p) 8 row
    m = least_is s p row prompt.1

    change : (row_reading k.story.bus_state row).change ≡ change_of p row
    change = change_plain s row p was.standing.devices m.inside

    by_array : (n : Connection) → LinkStage s p n → RowFacts s p row n
        → (bus (row ∷ p)).rst ≡ false → (a : Option Array) → k.array ≡ a → is_some a ≡ true
        → is_true_telling s k row (row_reading k.story.bus_state row) ≡ true
    by_array n h facts off None e z = none_array z
    by_array n h facts off (Some a) e z = linked_told s p row n (record {
      units = units_are s (obeys_fits s o);
      devices = was.standing.devices;
      below = m.inside;
      was = was;
      stage = h;
      facts = facts;
      calm_after = off;
      shown = shown;
      array = a;
      array_is = e;
      tells = tells;
    })

    go : (q : Bool) → (bus (row ∷ p)).rst ≡ q → AnyStage s p
        → is_true_telling s k row (row_reading k.story.bus_state row) ≡ true
    go true on h = reset_told s k row (row_reading k.story.bus_state row) (ap (λ (x : Change). x.after.rst) change ∙ on)
    go false off (linked n h) =
        let r = connection_row s p row n o prompt was (link_connection s p n h) (link_calm s p n h) off in
        by_array n h r.facts off k.array refl some
    go false off (apart h alone) =
        let g = from_stage s p row (obeys_latencies s o) was.standing h alone m in
        let none = apart_connection s p row m.inside g.obeys h alone off in
        apart_told s k row (row_reading k.story.bus_state row) (ap (λ (x : Change). x.after.rst) change ∙ off)
        (was.plain.connection ∙ none) (link_none s p h none)
