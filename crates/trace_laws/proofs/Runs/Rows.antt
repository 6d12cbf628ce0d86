-- Where the data pointers of all processes of one kind stand after a row, whatever it is.
use Rattle.trace_laws.proofs
use proofs.Names.{ℕ, ◌≡◌, ◌⊎◌, inl, inr, ◌+◌, ◌*◌, ◌<◌, ◌^◌, Bool, true, false, ◌∙◌, Option, Some, None, refl, sym, ap}
use proofs.Names.{subst, arith, true≢false, ◌&&◌, not, same_Some, if◌then◌else◌, is_some, ProcId, falls, LineSet}
use proofs.Names.{changes_phase, connection_after, connection_of, receiver_in, Row, Change, Connection, MsgIn}
use proofs.Names.{ScenarioValue, is_own, Process, process_of, same_id, RowReading, row_reading, Item, process, abort}
use proofs.Names.{has_item, Link, link_after_name, aim_of, phase_of, Phase, RunState, bus_of, process_item}
use proofs.Names.{process_served, carried_here, first_run_state, run_state_after, served_after, item_if, leaving}
use proofs.Names.{ready_of, InConnection, in_connection, Gives, Knows, RowKind, still, strikes, crosses, turns, IsRowIn}
use proofs.Names.{reading_in, Speaks, Begins, GoesOn, Ends, RowOf, apart, begins, goes_on, ends, under_reset, none_some}
use proofs.Names.{some_none, by_bool, by_option, IsWaiting, ServedPointers, UndoesServed, RefusesLater, IsServedAnew}
use proofs.Names.{run_step, begins_served, begins_undoes, goes_undoes, phase_served, names_or, ends_wait, turns_served}
use proofs.Names.{Meets, IsNot, TurnsBy, SameSaved, wait_on, over_row, start_other, apart_same, ends_same, begins_same}
use proofs.Names.{goes_other, IsServedWell, RunsBy}
use Rattle.due_model.specs.array_model.proofs.SoundArrays.{id_is}

-- ---- before any row

pub runs_first : (kind : Process → Type 0) (s : ScenarioValue) → RunsBy kind s (first_run_state s)
runs_first kind s = record {
  waits = λ q e w x. record { saved = λ o m. nothing (run_step s q) };
  free = λ e. refl;
  reset = λ n q e. none_some n e;
  undoes = λ n e. none_some n e;
  served = λ n q e. none_some n e;
}
  where
    nothing : (x : ℕ) → 0 ≡ 0 * x
    nothing x = omega arith

    none_some : {A : Type 0} (n : Connection) → (let o : Option Connection = None in o) ≡ Some n → A
    none_some n e = absurd cc

-- ---- which process is served

-- It is the one that is served, or another.
pub data Serves (item : Option Item) (id : ProcId) : Type 0 where
  it : item ≡ Some (process id) → Serves item id
  another : IsNot id item → Serves item id

pub serves : (item : Option Item) (id : ProcId) → Serves item id
serves None id = another (λ x e. none_some (process x) e)
serves (Some (abort n)) id = another (λ x e. never x e)
  where
    never : (x : ProcId) → (let o : Option Item = Some (abort n) in o) ≡ Some (process x) → same_id x id ≡ false
    never x e = absurd cc
serves (Some (process y)) id = by_bool (same_id y id) (λ e. it
    (ap (λ (z : ProcId). Some (process z)) (Rattle.story_laws.specs.book_laws.proofs.Common.Lookups.id_is y id e)))
    (λ e. another (λ x f. ap (λ (z : ProcId). same_id z id) (sym (same x f)) ∙ e))
  where
    same : (x : ProcId) → (let o : Option Item = Some (process y) in o) ≡ Some (process x) → y ≡ x
    same x e = cc

none_not : (id : ProcId) (item : Option Item) → item ≡ None → IsNot id item
none_not id item e x f = none_some (process x) (sym e ∙ f)

-- The process that is found is the one of this number.
pub served_id : (s : ScenarioValue) (item : Option Item) (q : Process) → process_item s item ≡ Some q
    → (item ≡ Some (process q.id)) × (process_of s q.id ≡ Some q)
served_id s None q e = none_process e
  where
    none_process : {A : Type 0} → (let o : Option Process = None in o) ≡ Some q → A
    none_process e = absurd cc
served_id s (Some (abort n)) q e = none_process e
  where
    none_process : {A : Type 0} → (let o : Option Process = None in o) ≡ Some q → A
    none_process e = absurd cc
served_id s (Some (process x)) q e = (ap (λ (y : ProcId). Some (process y)) (sym (id_is s x q e)), is_own s x q e)

it_served : (s : ScenarioValue) (k : RunState) (q : Process) → process_of s q.id ≡ Some q
    → k.served ≡ Some (process q.id) → process_served s k ≡ Some q
it_served s k q own e = ap (process_item s) e ∙ own

-- ---- what is known of the row

pub record RunsOn (kind : Process → Type 0) (s : ScenarioValue) (k : RunState) (row : Row) : Type 0 where
  pub was : RunsBy kind s k
  pub row_is : RowOf s k row
  pub speaks : (n : Connection) → k.story.bus_state.connection ≡ Some n → (bus_of k).rst ≡ false → Speaks s k n
  pub gives : (n : Connection) → k.story.bus_state.connection ≡ Some n → (bus_of k).rst ≡ false → Gives k
  pub knows : (n : Connection) → k.story.bus_state.connection ≡ Some n → (bus_of k).rst ≡ false → Knows s k n
  pub anew : (n : Connection) → k.story.bus_state.connection ≡ None → (row_reading k.story.bus_state row).next ≡ Some n
      → IsServedAnew s k n
  -- with the row that raises RST the process that is served is over
  pub stops : (q : Process) → process_of s q.id ≡ Some q → kind q → k.served ≡ Some (process q.id)
      → (row_reading k.story.bus_state row).change.after.rst ≡ true → (bus_of k).rst ≡ false
      → has_item (run_state_after s k row).story.sent.over (process q.id) ≡ true
  pub refuses : (n : Connection) → k.story.bus_state.connection ≡ Some n → (bus_of k).rst ≡ false → RefusesLater k
  -- in DATA OUT few bytes were answered, in DATA IN few were asked for
  pub short : (n : Connection) (q : Process) → k.story.bus_state.connection ≡ Some n → (bus_of k).rst ≡ false
      → process_served s k ≡ Some q → kind q → k.exchange.begun ≡ true → phase_of (bus_of k) ≡ Phase.DataOut
      → k.handshakes.answers + 1 < 2 ^ 64
  pub short_asked : (n : Connection) (q : Process) → k.story.bus_state.connection ≡ Some n → (bus_of k).rst ≡ false
      → process_served s k ≡ Some q → kind q → k.exchange.begun ≡ true → phase_of (bus_of k) ≡ Phase.DataIn
      → k.handshakes.requests + 1 < 2 ^ 64
  -- of a row of a connection that changes the phase
  pub known : (c : Change) (n : Connection) → IsRowIn k row n c → (bus_of k).rst ≡ false → c.after.msg ≡ true
      → c.after.cd ≡ true
  pub whereto : (c : Change) (n : Connection) → IsRowIn k row n c → (bus_of k).rst ≡ false → changes_phase c ≡ true
      → k.exchange.begun ≡ true → (leaving s k n.target).to ≡ Some (phase_of c.after)
  pub turns : (c : Change) (n : Connection) (q : Process) → IsRowIn k row n c → (bus_of k).rst ≡ false
      → changes_phase c ≡ true → process_served s k ≡ Some q → kind q → k.exchange.begun ≡ true → TurnsBy s k n q

-- ---- a process that is not served after the row

-- It has lost its place under RST.
over_waits : (s : ScenarioValue) (j : RunState) (q : Process) → has_item j.story.sent.over (process q.id) ≡ true
    → IsWaiting s j q
over_waits s j q e = record { saved = λ o m. absurd (true≢false (sym e ∙ o)) }

-- RST is true after the row.
reset_over : (kind : Process → Type 0) (s : ScenarioValue) (k : RunState) (row : Row) (n : Connection) (q : Process)
    → RunsOn kind s k row → k.story.bus_state.connection ≡ Some n
    → (row_reading k.story.bus_state row).change.after.rst ≡ true → process_of s q.id ≡ Some q → kind q
    → k.served ≡ Some (process q.id) → has_item (run_state_after s k row).story.sent.over (process q.id) ≡ true
reset_over kind s k row n q h con on own w served =
    by_bool (bus_of k).rst
    (λ e. over_row s k row (process q.id) (h.was.reset n q con e (it_served s k q own served) w))
    (λ e. h.stops q own w served on e)

waits_other : (kind : Process → Type 0) (s : ScenarioValue) (k : RunState) (row : Row) (q : Process)
    → RunsOn kind s k row → process_of s q.id ≡ Some q → kind q → IsNot q.id k.served
    → SameSaved (carried_here (run_state_after s k row) q.id) (carried_here k q.id)
    → IsWaiting s (run_state_after s k row) q
waits_other kind s k row q h own w other same = wait_on s k (run_state_after s k row) q same
    (λ e. over_row s k row (process q.id) e) (start_other s k row q other) (h.was.waits q own w other)

-- ---- by the kind of the row

apart_on : (kind : Process → Type 0) (s : ScenarioValue) (k : RunState) (row : Row) → RunsOn kind s k row
    → k.story.bus_state.connection ≡ None → (row_reading k.story.bus_state row).next ≡ None
    → RunsBy kind s (run_state_after s k row)
apart_on kind s k row h con next = record {
  waits = λ q own w other. waits_other kind s k row q h own w (none_not q.id k.served (h.was.free con))
      (apart_same s k row q.id (inr (con, next)));
  free = λ e. (λ i. served_after s k (con i) (next i)) ∙ h.was.free con;
  reset = λ n q e. none_some n (sym next ∙ e);
  undoes = λ n e. none_some n (sym next ∙ e);
  served = λ n q e. none_some n (sym next ∙ e);
}

begins_on : (kind : Process → Type 0) (s : ScenarioValue) (k : RunState) (row : Row) (n : Connection)
    → RunsOn kind s k row → Begins s k row n → RunsBy kind s (run_state_after s k row)
begins_on kind s k row n h b = record {
  waits = λ q own w other. waits_other kind s k row q h own w (none_not q.id k.served none)
      (begins_same s k row n q.id b.first.connection_is b.first.next_is b.first.calm);
  free = λ e. some_none n (sym b.first.next_is ∙ e);
  reset = λ m q e on. absurd (true≢false (sym on ∙ b.first.calm));
  undoes = λ m e off. begins_undoes s k row n b.first;
  served = λ m q e off is w.
      let id = served_id s j.served q is in
      subst (λ (x : Connection). IsServedWell s j x q) (same_Some n m (sym b.first.next_is ∙ e))
      (record {
        target_is = target q id.0 id.1;
        pointers = begins_served s k row n q b.first b.names (h.anew n b.first.connection_is b.first.next_is) id.0
            (h.was.waits q id.1 w (none_not q.id k.served none));
      });
}
  where
    j : RunState
    j = run_state_after s k row

    none : k.served ≡ None
    none = h.was.free b.first.connection_is

    served : j.served ≡ (if n.reselected then item_if (ready_of s k n.target) else aim_of k.story.aims n.initiator)
    served = λ i. served_after s k (b.first.connection_is i) (b.first.next_is i)

    target : (q : Process) → j.served ≡ Some (process q.id) → process_of s q.id ≡ Some q → q.target ≡ n.target
    target q e own = go n.reselected refl (sym served ∙ e)
      where
        go : (r : Bool) → n.reselected ≡ r
            → (if n.reselected then item_if (ready_of s k n.target) else aim_of k.story.aims n.initiator)
            ≡ Some (process q.id) → q.target ≡ n.target
        go false r f =
            let a = b.selects r in
            let aim : Some a.item ≡ Some (process q.id) = sym a.aim_is
            ∙ sym (ap (λ (x : Bool). if x then item_if (ready_of s k n.target) else aim_of k.story.aims n.initiator) r)
            ∙ f in
            a.target_is q (ap (process_item s) aim ∙ own)
        go true r f =
            let a = b.reselects r in
            let made : Some (process a.ready.process.id) ≡ Some (process q.id) = sym (ap item_if a.ready_is)
            ∙ sym (ap (λ (x : Bool). if x then item_if (ready_of s k n.target) else aim_of k.story.aims n.initiator) r)
            ∙ f in
            let same : Some a.process ≡ Some q = sym a.process_is ∙ ap (process_item s) made ∙ own in
            sym (ap (λ (x : Process). x.target) (same_Some a.process q same)) ∙ a.target_is

ends_on : (kind : Process → Type 0) (s : ScenarioValue) (k : RunState) (row : Row) (n : Connection)
    → RunsOn kind s k row → Ends s k row n → RunsBy kind s (run_state_after s k row)
ends_on kind s k row n h e = record {
  waits = λ q own w other. go q own w (serves k.served q.id);
  free = λ z. λ i. served_after s k (e.connection_is i) (e.next_is i);
  reset = λ m q z. none_some m (sym e.next_is ∙ z);
  undoes = λ m z. none_some m (sym e.next_is ∙ z);
  served = λ m q z. none_some m (sym e.next_is ∙ z);
}
  where
    j : RunState
    j = run_state_after s k row

    go : (q : Process) → process_of s q.id ≡ Some q → kind q → Serves k.served q.id → IsWaiting s j q
    go q own w (another other) =
        waits_other kind s k row q h own w other (ends_same s k row n q.id e.connection_is e.next_is)
    go q own w (it served) = by_bool (row_reading k.story.bus_state row).change.after.rst
        (λ on. over_waits s j q (reset_over kind s k row n q h e.connection_is on own w served))
        (λ off. ends_wait s k row n q e.connection_is e.next_is off
        (h.was.served n q e.connection_is e.calm (it_served s k q own served) w).pointers)

-- Under RST.
reset_on : (kind : Process → Type 0) (s : ScenarioValue) (k : RunState) (row : Row) → RunsOn kind s k row
    → (row_reading k.story.bus_state row).change.after.rst ≡ true → RunsBy kind s (run_state_after s k row)
reset_on kind s k row h on = record {
  waits = λ q own w other. waits q own w (serves k.served q.id) other;
  free = λ e. free k.story.bus_state.connection refl e;
  reset = λ m q e z is w. let id = served_id s j.served q is in still_over m q e id.1 w id.0;
  undoes = λ m e off. absurd (true≢false (sym on ∙ off));
  served = λ m q e off. absurd (true≢false (sym on ∙ off));
}
  where
    j : RunState
    j = run_state_after s k row

    d : RowReading
    d = row_reading k.story.bus_state row

    free : (o : Option Connection) → k.story.bus_state.connection ≡ o → d.next ≡ None → j.served ≡ None
    free None con next = (λ i. served_after s k (con i) (next i)) ∙ h.was.free con
    free (Some m) con next = λ i. served_after s k (con i) (next i)

    goes_on_there : (o : Option Connection) → k.story.bus_state.connection ≡ o → (m : Connection) → d.next ≡ Some m
        → (o ≡ Some m) × (j.served ≡ k.served)
    goes_on_there None con m next =
        let never : connection_after None k.story.bus_state.call d.change row ≡ None =
        (λ i. if falls d.change.before.sel d.change.after.sel && d.change.after.bsy && not (on i)
        then connection_of k.story.bus_state.call row.time else None)
        ∙ no_connection (falls d.change.before.sel d.change.after.sel) d.change.after.bsy
        (connection_of k.story.bus_state.call row.time) in
        none_some m (sym never
        ∙ sym (ap (λ (x : Option Connection). connection_after x k.story.bus_state.call d.change row) con) ∙ next)
      where
        no_connection : (a b : Bool) (x : Option Connection) → (if a && b && false then x else None) ≡ None
        no_connection true true x = refl
        no_connection true false x = refl
        no_connection false b x = refl
    goes_on_there (Some n) con m next = (
      by (sym (ap (λ (x : Option Connection). connection_after x k.story.bus_state.call d.change row) con) ∙ next),
      (λ i. served_after s k (con i) (next i)),
    )
      where
        by : (if d.change.after.bsy then Some n else None) ≡ Some m → (let o : Option Connection = Some n in o) ≡ Some m
        by e = go d.change.after.bsy e
          where
            go : (b : Bool) → (if b then Some n else None) ≡ Some m → (let o : Option Connection = Some n in o) ≡ Some m
            go true f = f
            go false f = none_some m f

    still_over : (m : Connection) (q : Process) → d.next ≡ Some m → process_of s q.id ≡ Some q → kind q
        → j.served ≡ Some (process q.id) → has_item j.story.sent.over (process q.id) ≡ true
    still_over m q next own w served =
        let g = goes_on_there k.story.bus_state.connection refl m next in
        reset_over kind s k row m q h g.0 on own w (sym g.1 ∙ served)

    waits : (q : Process) → process_of s q.id ≡ Some q → kind q → Serves k.served q.id → IsNot q.id j.served
        → IsWaiting s j q
    waits q own w (another other) z = waits_other kind s k row q h own w other (apart_same s k row q.id (inl on))
    waits q own w (it served) z =
        by_option k.story.bus_state.connection
        (λ con. none_some (process q.id) (sym (h.was.free con) ∙ served))
        (λ n con. over_waits s j q (reset_over kind s k row n q h con on own w served))

-- In a connection.
goes_there : (kind : Process → Type 0) (s : ScenarioValue) (k : RunState) (row : Row) (n : Connection) (c : Change)
    → RunsOn kind s k row → GoesOn s k row n c → RunsBy kind s (run_state_after s k row)
goes_there kind s k row n c h g = go r.kind
  where
    j : RunState
    j = run_state_after s k row

    r : IsRowIn k row n c
    r = g.row_is

    knows : Knows s k n
    knows = h.knows n r.connection_is g.calm

    undoes : UndoesServed k
    undoes = h.was.undoes n r.connection_is g.calm

    named : (now : Bool) → is_some (receiver_in n c) ≡ now → (l : Link) (m : MsgIn)
        → k.story.link ≡ Some l → (reading_in k.story.bus_state n c now).into ≡ Some m
        → ((link_after_name k.story.sent s.commands l m).item ≡ k.served)
        ⊎ ((link_after_name k.story.sent s.commands l m).item ≡ None)
    named now en l m el em = names_or s k row n c now l m r en knows g (h.gives n r.connection_is g.calm) el em

    meets : (q : Process) → process_served s k ≡ Some q → kind q → Meets s k row n c q
    meets q is w = record {
      of = g;
      speaks = h.speaks n r.connection_is g.calm;
      gives = h.gives n r.connection_is g.calm;
      knows = knows;
      served = (served_id s k.served q is).0;
      undoes = undoes;
      refuses = h.refuses n r.connection_is g.calm;
      short = h.short n q r.connection_is g.calm is w;
      short_asked = h.short_asked n q r.connection_is g.calm is w;
    }

    well : (q : Process) → j.served ≡ k.served → process_served s j ≡ Some q → kind q
        → (Meets s k row n c q → ServedPointers s k q → ServedPointers s j q) → IsServedWell s j n q
    well q es is w f =
        let was : process_served s k ≡ Some q = ap (process_item s) (sym es) ∙ is in
        let p = h.was.served n q r.connection_is g.calm was w in
        record { target_is = p.target_is; pointers = f (meets q was w) p.pointers }

    made : (phase now fault : Bool) → is_some (receiver_in n c) ≡ now → InConnection s k row n c phase now fault
        → ((q : Process) → process_served s j ≡ Some q → kind q → Meets s k row n c q → ServedPointers s k q
        → ServedPointers s j q) → RunsBy kind s j
    made phase now fault en i f = record {
      waits = λ q own w other. waits_other kind s k row q h own w (λ x e. other x (i.served_is ∙ e))
          (goes_other s k row n c q.id now r en knows undoes (λ x e. other x (i.served_is ∙ e)) (named now en));
      free = λ e. some_none n (sym i.connection_is ∙ e);
      reset = λ m q e on. absurd (true≢false (sym on ∙ ap (λ (l : LineSet). l.rst) i.bus_is ∙ r.calm));
      undoes = λ m e off. goes_undoes s k row n c now r en knows i.served_is undoes;
      served = λ m q e off is w. subst (λ (x : Connection). IsServedWell s j x q)
          (same_Some n m (sym i.connection_is ∙ e)) (well q i.served_is is w (f q is w));
    }

    none_crosses : receiver_in n c ≡ None → is_some (receiver_in n c) ≡ false
    none_crosses e = ap (λ (z : Option ℕ). is_some z) e

    go : RowKind row n c → RunsBy kind s j
    go (still ef ep er) = made false false false (none_crosses er) (in_connection s k row n c false false false r ep
        (none_crosses er) ef) (λ q is w m p. phase_served s k row n c q m ep p)
    go (strikes ef ep er) = made false false true (none_crosses er) (in_connection s k row n c false false true r ep
        (none_crosses er) ef) (λ q is w m p. phase_served s k row n c q m ep p)
    go (crosses dev ef ep er) = made false true false (ap (λ (z : Option ℕ). is_some z) er)
        (in_connection s k row n c false true false r ep (ap (λ (z : Option ℕ). is_some z) er) ef)
        (λ q is w m p. phase_served s k row n c q m ep p)
    go (turns ef ep er) =
        let i = in_connection s k row n c true false false r ep (none_crosses er) ef in
        made true false false (none_crosses er) i
        (λ q is w m p. turns_served s k row n c q m (ap (process_item s) (sym i.served_is) ∙ is)
        (λ b. h.turns c n q r g.calm ep (ap (process_item s) (sym i.served_is) ∙ is) w b) ep er ef
        (h.known c n r g.calm) (h.whereto c n r g.calm ep) p)

pub runs_row : (kind : Process → Type 0) (s : ScenarioValue) (k : RunState) (row : Row) → RunsOn kind s k row
    → RunsBy kind s (run_state_after s k row)
runs_row kind s k row h = go h.row_is
  where
    go : RowOf s k row → RunsBy kind s (run_state_after s k row)
    go (apart con next) = apart_on kind s k row h con next
    go (begins n b) = begins_on kind s k row n h b
    go (goes_on n c g) = goes_there kind s k row n c h g
    go (ends n e) = ends_on kind s k row n h e
    go (under_reset on none) = reset_on kind s k row h on
