-- Row by row: what the lines show, what is said, and what the two ends drive, together.
use Rattle.row_laws.proofs
use proofs.Names.{inl, inr, ℕ, ◌≡◌, ◌⊎◌, ◌<◌, Bool, true, false, not, ◌&&◌, ◌==◌, ◌%◌, ◌∙◌, List, ◌∷◌, length, Option}
use proofs.Names.{Some, None, refl, sym, ap, subst, arith, [], ltb-true, same_Some, count_ones, if◌then◌else◌, is_some}
use proofs.Names.{nat_lt, slice_index_or, wrong, wrong', and_false, zero_of, implication, bus_on, same_set-eq}
use proofs.Names.{change_of, rises, falls, implies, LineSet, union, has_odd_parity, changes_phase, is_command, is_data}
use proofs.Names.{is_message_out, is_message_in, connection, connection_after, receiver_in, receiver_of, bus, drives}
use proofs.Names.{Row, Change, Connection, Handshakes, handshakes, no_handshakes, only_rst, broken_rule, seen_with}
use proofs.Names.{ScenarioValue, Process, HasSeats, row_reading, Link, aim_of, byte_bits, bytes_of_messages}
use proofs.Names.{no_messages, begun, phase_of, leaving_by, phase_byte, one_if, first_plan, Ready, Leaving, Messages}
use proofs.Names.{Phase, run_state_plain, IsLeast, due, IsPlain, AreOfDevices, RunState, bus_of, item_of, process_item}
use proofs.Names.{process_here, process_served, run_state, exchange_after, leaving_of, may_negotiate, messages_if}
use proofs.Names.{serving_at, identify_byte, ready_of, is_command_phase, AreUnits, aims_are, row_keeps, end_keeps}
use proofs.Names.{answers_next, answers_own, leaves_by, messages_some, books_on, books_are, SendsOwn, is_in_phase}
use proofs.Names.{is_out_phase, HasPhase, LeavesWhole, Knows, IsOver, IsReadyFor, GoesOn, Ends, RowOf, row_apart}
use proofs.Names.{begins, goes_on as row_goes_on, row_ends, under_reset, Books, change_plain, drives_own, from_stage}
use proofs.Names.{by_calm, reset_or_calm, standing_first, stage_first, by_reset, connected_bus, BeginsConnection}
use proofs.Names.{by_selection, by_reselection, ends_selected, ends_reselected, unreset_due, row_of_lines}
use proofs.Names.{HasShortLatencies, BusStage, CalmStanding, Standing, NextRow, is_connected, HasShortRuns, from_any}
use proofs.Names.{link_calm, has_odd_byte, KeepsBooksIn, LinkStage, when_selected, when_settling, when_turning}
use proofs.Names.{when_offering, when_shaking, when_pulsing, AnyStage, apart, linked, NextAny, IsAskedIn, IsAsked}
use proofs.{Names.{HasByteValues}, Bytes.{Blocks.{HasCommands, sends_bytes}, Facts.{GivesByteValues}}}
use proofs.Common.{Impossible.{none_some}, PhaseLines.{in_phase}, Tests.{falls_true, by_bool}}
use proofs.Lines.{Called.{IsMadeFor, IsCalled, fresh_call, called_on, made_for}, Crossings.{Goes, Stops, RowFacts}}
use proofs.Lines.{Crossings.{stays, ends_here, offering_is, byte_is, row_facts, leaving_is}, Driven.{message_at}}
use proofs.Lines.{Driven.{AfterDriven, goes_on, frees, odd_byte, driven_in}, First.{IsFirst, is_first, under_rst}}
use proofs.Lines.{First.{made_is, quiet_sel}, Plans.{is_in_message, Planned, planned_on, data_goes_on, writes_of}}
use proofs.Lines.{Plans.{is_directed, writes_out, writes_there}, Rows.{is_unasked, link_row}, Steps.{IsDriven}}
use proofs.Lines.{Steps.{HasValues, driven_by, after_row}, UnderRst.{carries_none, ends_apart, quiet_at_end}}
use Rattle.book_laws.specs.Traces.{Begins}

pub record Stood (s : ScenarioValue) (p : List Row) : Type 0 where
  pub standing : Standing s p
  pub here : AnyStage s p
  pub books : Books s (run_state s p)
  pub driven : (n : Connection) → connection p ≡ Some n → (bus p).rst ≡ false → IsDriven s p n
  pub planned : (n : Connection) → connection p ≡ Some n → (bus p).rst ≡ false → Planned s (run_state s p)
  pub called : connection p ≡ None → (bus p).rst ≡ false → IsCalled s p
  -- what is kept of the rows is what they tell
  pub plain : IsPlain s p (run_state s p)

-- What the next row is, and what stands after it.
pub record NextStood (s : ScenarioValue) (p : List Row) (row : Row) : Type 0 where
  pub obeys : broken_rule p row ≡ None
  pub row_is : RowOf s (run_state s p) row
  pub stood : Stood s (row ∷ p)

-- ---- the stage of a connection

link_sel : (s : ScenarioValue) (p : List Row) (n : Connection) → LinkStage s p n → (bus p).sel ≡ false
link_sel s p n (when_selected h) = ap (λ (l : LineSet). l.sel) h.linked.stands.bus_is
link_sel s p n (when_settling bsy atn msg cd io y h) = ap (λ (l : LineSet). l.sel) h.linked.stands.bus_is
link_sel s p n (when_turning atn x msg cd h) = ap (λ (l : LineSet). l.sel) h.linked.stands.bus_is
link_sel s p n (when_offering atn msg cd y h) = ap (λ (l : LineSet). l.sel) h.linked.stands.bus_is
link_sel s p n (when_shaking msg cd io req ack atn x y h) = ap (λ (l : LineSet). l.sel) h.linked.stands.bus_is
link_sel s p n (when_pulsing io req ack atn x y h a) = ap (λ (l : LineSet). l.sel) h.linked.stands.bus_is

pub link_connection : (s : ScenarioValue) (p : List Row) (n : Connection) → LinkStage s p n → connection p ≡ Some n
link_connection s p n (when_selected h) = h.linked.stands.connection_is
link_connection s p n (when_settling bsy atn msg cd io y h) = h.linked.stands.connection_is
link_connection s p n (when_turning atn x msg cd h) = h.linked.stands.connection_is
link_connection s p n (when_offering atn msg cd y h) = h.linked.stands.connection_is
link_connection s p n (when_shaking msg cd io req ack atn x y h) = h.linked.stands.connection_is
link_connection s p n (when_pulsing io req ack atn x y h a) = h.linked.stands.connection_is

-- The messages are of the phases with C/D, which have begun.
second : (m c : Bool) → (m && not c) ≡ false → m ≡ true → c ≡ true
second true c e f = go c e
  where
    go : (q : Bool) → not q ≡ false → q ≡ true
    go true z = refl
    go false z = wrong z
second false c e f = wrong' f

by_known : (p : List Row) (b : LineSet) (g : Bool) → bus p ≡ b → (b.msg && not b.cd) ≡ false → begun p ≡ true
    → (bus p).msg ≡ true → ((bus p).cd ≡ true) × (begun p ≡ true)
by_known p b g e known bg m =
    (ap (λ (l : LineSet). l.cd) e ∙ second b.msg b.cd known (ap (λ (l : LineSet). l.msg) (sym e) ∙ m), bg)

pub link_phase : (s : ScenarioValue) (p : List Row) (n : Connection) → LinkStage s p n → (bus p).msg ≡ true
    → ((bus p).cd ≡ true) × (begun p ≡ true)
link_phase s p n (when_selected h) m = wrong' (sym (ap (λ (l : LineSet). l.msg) h.linked.stands.bus_is) ∙ m)
link_phase s p n (when_settling bsy atn msg cd io y h) m =
    by_known p _ true h.linked.stands.bus_is h.phase.known h.phase.begun_is m
link_phase s p n (when_turning atn x msg cd h) m =
    by_known p _ true h.linked.stands.bus_is h.phase.known h.phase.begun_is m
link_phase s p n (when_offering atn msg cd y h) m =
    by_known p _ true h.linked.stands.bus_is h.phase.known h.phase.begun_is m
link_phase s p n (when_shaking msg cd io req ack atn x y h) m =
    by_known p _ true h.linked.stands.bus_is h.phase.known h.phase.begun_is m
link_phase s p n (when_pulsing io req ack atn x y h a) m =
    by_known p _ true h.linked.stands.bus_is h.phase.known h.phase.begun_is m

pub link_unbegun : (s : ScenarioValue) (p : List Row) (n : Connection) → LinkStage s p n → begun p ≡ false
    → bus p ≡ connected_bus ends_selected
link_unbegun s p n (when_selected h) b = h.linked.stands.bus_is
link_unbegun s p n (when_settling bsy atn msg cd io y h) b = wrong (sym h.phase.begun_is ∙ b)
link_unbegun s p n (when_turning atn x msg cd h) b = wrong (sym h.phase.begun_is ∙ b)
link_unbegun s p n (when_offering atn msg cd y h) b = wrong (sym h.phase.begun_is ∙ b)
link_unbegun s p n (when_shaking msg cd io req ack atn x y h) b = wrong (sym h.phase.begun_is ∙ b)
link_unbegun s p n (when_pulsing io req ack atn x y h a) b = wrong (sym h.phase.begun_is ∙ b)

-- ---- what is asked of bytes

pub values_of : (s : ScenarioValue) (p : List Row) (n : Connection) → HasCommands s → AreOfDevices p
    → HasByteValues s (run_state s p) n → HasValues s p n
values_of s p n gr dv v e h b =
    let k = run_state s p in
    let a = run_state_plain s p dv in
    let on = a.bus ∙ h.stands.bus_is in
    record {
      offered = subst (λ w. w.byte < 256) (offering_is s p n e dv h b) v.offered;
      answered =
          subst (λ (w : ℕ). w < 256) (byte_is s p n e dv h) (sends_bytes s k (bus_of k) k.exchange.speech gr v.said);
      entering = λ phase z. subst (λ (w : ℕ). w < 256) ((λ i. phase_byte (serving_at s k n.target (phase_of (on i)))
          phase (leaving_by (serving_at s k n.target (phase_of (on i))) ((a.begun ∙ b) i) (on i)).messages
          (one_if (leaving_by (serving_at s k n.target (phase_of (on i))) ((a.begun ∙ b) i) (on i)).done) 0))
          (v.entering phase (ap (λ (w : Leaving). w.to) (leaving_is s p n e dv h b) ∙ z));
    }

-- ---- the tests of the rules

odd_row : (p : List Row) (row : Row)
    → implies (is_some (receiver_of (connection p) (change_of p row))) (has_odd_parity (change_of p row).after) ≡ true
    → has_odd_byte p row ≡ true
unfolding seen_with
odd_row p row e = e

-- A row outside a connection, or under RST, is asked nothing.
unasked_apart : (p : List Row) (row : Row) → is_connected p ≡ false → KeepsBooksIn p row
unasked_apart p row alone now = wrong' (sym (λ i. alone i && not (bus (row ∷ p)).rst) ∙ now)

unasked_reset : (p : List Row) (row : Row) → (bus (row ∷ p)).rst ≡ true → KeepsBooksIn p row
unasked_reset p row on now = wrong' (sym (and_false (is_connected p)) ∙ (λ i. is_connected p && not (sym on i)) ∙ now)

-- ---- a byte of MESSAGE IN follows

follows_some : (p : List Row) (bytes : List ℕ) → nat_lt 0 (length bytes) ≡ true
    → (is_unasked p ≡ true) ⊎ (nat_lt (handshakes p).requests (length bytes) ≡ true)
    → nat_lt (handshakes p).requests (length bytes) ≡ true
follows_some p bytes some (inl u) = ap (λ (w : ℕ). nat_lt w (length bytes)) (zero_of (handshakes p).requests u) ∙ some
follows_some p bytes some (inr f) = f

-- ---- a row with which the connection goes on

crossing_is : (s : ScenarioValue) (p : List Row) (row : Row) (n : Connection) (g : Goes s p row n)
    → (row_reading (run_state s p).story.bus_state row).crosses ≡ is_some (receiver_in n g.change)
crossing_is s p row n g = λ i. is_some (receiver_of (g.row_is.connection_is i) (g.row_is.change_is i))

-- The process that the initiator knows is the one that is served.
pub here_served : (s : ScenarioValue) (k : RunState) (n : Connection) (pr : Process) → Knows s k n
    → process_here s k ≡ Some pr → process_served s k ≡ Some pr
here_served s k n pr w e = go w.item_is
  where
    item : process_item s w.link.item ≡ Some pr
    item = ap (λ (l : Option Link). process_item s (item_of l)) (sym w.link_is) ∙ e

    go : (w.link.item ≡ k.served) ⊎ ((n.reselected ≡ true) × (w.link.item ≡ None)) → process_served s k ≡ Some pr
    go (inl z) = ap (process_item s) (sym z) ∙ item
    go (inr z) = absurd (none_some pr (sym (ap (process_item s) z.1) ∙ item))

sends_own : (s : ScenarioValue) (p : List Row) (row : Row) (n : Connection) → Planned s (run_state s p)
    → Knows s (run_state s p) n → (run_state s p).exchange.begun ≡ begun p → IsAskedIn s p row n
    → (g : Goes s p row n) → SendsOwn s (run_state s p) row
sends_own s p row n pd knows same a g pr e f =
    let k = run_state s p in
    let cr : is_some (receiver_in n g.change) ≡ true = sym (crossing_is s p row n g) ∙ f in
    let w = a.pointers pr e f in
    let c = g.row_is.change_is in
    let before = ap (λ (x : Change). x.before) c in
    let after = ap (λ (x : Change). x.after.data_bits % 256) c in
    let on : bus_of k ≡ g.change.before = g.row_is.bus_is in
    record {
      command = λ z.
          let here : is_command g.change.before ≡ true = ap is_command (sym before) ∙ z in
          let out = out_of g.change.before.msg g.change.before.cd g.change.before.io here in
          (after ∙ (answers_own s k n g.change pr on g.answered e cr out).0 here, w.command (ap is_command on ∙ here));
      moved = λ z x.
          let here : is_data g.change.before ≡ true = ap is_data (sym before) ∙ z in
          let in_data = ap is_data on ∙ here in
          let out = writes_out (bus_of k).io pr
          (sym (ap (λ (o : Option Process). is_directed (bus_of k).io (writes_of o)) (here_served s k n pr knows e))
          ∙ pd.serves (same ∙ g.begun_is cr) in_data) x in (
            after
                ∙ (answers_own s k n g.change pr on g.answered e cr (ap (λ (l : LineSet). l.io) (sym on) ∙ out)).1 here,
            w.moved in_data x,
          );
    }
  where
    out_of : (m c i : Bool) → (not m && c && not i) ≡ true → i ≡ false
    out_of true c i z = wrong' z
    out_of false true true z = wrong' z
    out_of false true false z = refl
    out_of false false i z = wrong' z

-- A phase is left whole, one that has begun or the wait for the first.
left_whole : (s : ScenarioValue) (p : List Row) (row : Row) (n : Connection) → HasCommands s
    → Planned s (run_state s p) → AreOfDevices p → LinkStage s p n → Books s (run_state s p) → IsAskedIn s p row n
    → HasPhase (run_state s p) → changes_phase (row_reading (run_state s p).story.bus_state row).change ≡ true
    → (begun p ≡ true → IsOver s (run_state s p) n) → LeavesWhole s (run_state s p) n
left_whole s p row n gr pd dv h books a phase z over = go (begun p) refl
  where
    k : RunState
    k = run_state s p

    on : bus_of k ≡ bus p
    on = (run_state_plain s p dv).bus

    go : (q : Bool) → begun p ≡ q → LeavesWhole s k n
    go true b = leaves_by s k n (books.gives n ((run_state_plain s p dv).connection ∙ link_connection s p n h)
        (ap (λ (l : LineSet). l.rst) on ∙ link_calm s p n h)) phase (over b) pd.message (λ r o i. a.named z r o i)
        (gr.group k)
    go false b =
        let none = on ∙ link_unbegun s p n h b in
        let idle : phase_of (bus_of k) ≡ Phase.DataOut = ap phase_of none in
        record {
          out = λ e. wrong' (ap is_out_phase (sym idle) ∙ ap is_out_phase e);
          some = λ e. wrong' (ap is_in_phase (sym idle) ∙ ap is_in_phase e);
          given = λ e y. wrong' (ap is_in_phase (sym idle) ∙ ap is_in_phase e);
          command = λ pr ep e. wrong' (ap is_command_phase (sym idle) ∙ ap is_command_phase e);
          named = λ r o i. a.named z r o i;
        }

goes : (s : ScenarioValue) (p : List Row) (row : Row) (n : Connection) → HasCommands s
    → Planned s (run_state s p) → AreOfDevices p → LinkStage s p n → Books s (run_state s p) → IsAskedIn s p row n
    → (g : Goes s p row n) → GoesOn s (run_state s p) row n g.change
goes s p row n gr pd dv h books a g =
    let k = run_state s p in
    let pl = run_state_plain s p dv in
    let c = g.row_is.change_is in
    let phase : HasPhase k = λ m. let w = link_phase s p n h (ap (λ (l : LineSet). l.msg) (sym pl.bus) ∙ m) in
    (ap (λ (l : LineSet). l.cd) pl.bus ∙ w.0, pl.begun ∙ w.1) in
    record {
      row_is = g.row_is;
      calm = ap (λ (l : LineSet). l.rst) pl.bus ∙ link_calm s p n h;
      phase = phase;
      says = answers_next s k n g.change g.row_is.bus_is g.answered;
      gives = λ o z.
          let bytes = bytes_of_messages k.exchange.plan.messages in
          let in_message : phase_of (bus_of k) ≡ Phase.MessageIn = ap phase_of g.row_is.bus_is
          ∙ in_phase g.change.before o in
          let follows = follows_some p bytes
          (messages_some k.exchange.plan.messages (pd.message in_message)) (g.follows o z) in
          let requests : k.handshakes.requests ≡ (handshakes p).requests = ap
          (λ (w : Handshakes). w.requests) pl.handshakes in (
            g.offered o z ∙ ap (λ (w : ℕ). slice_index_or bytes w 0) (sym requests),
            ltb-true k.handshakes.requests (length bytes) (ap (λ (w : ℕ). nat_lt w (length bytes)) requests ∙ follows),
            pl.begun ∙ g.begun_is z,
          );
      names = a.names;
      sends = sends_own s p row n pd
          (books.knows n g.row_is.connection_is (ap (λ (l : LineSet). l.rst) pl.bus ∙ link_calm s p n h)) pl.begun a g;
      begun = λ z. pl.begun ∙ g.begun_is (sym (crossing_is s p row n g) ∙ z);
      first = λ z b. ap (λ (x : Change). is_message_out x.after) c
          ∙ g.first (ap changes_phase (sym c) ∙ z) (sym pl.begun ∙ b);
      runs = λ z w t ep et ef.
          let r = a.runs z w t ep et ef in
          record {
            named = r.named;
            writes = writes_there s k w pd (pl.begun ∙ g.begun_is (sym (crossing_is s p row n g) ∙ z)) ep ef;
            active_is = r.active_is;
          };
      leaves = λ z. left_whole s p row n gr pd dv h books a phase z (λ b. g.over (ap changes_phase (sym c) ∙ z) b);
    }

-- It keeps the books that the laws of connections ask for.
keeps : (s : ScenarioValue) (p : List Row) (row : Row) (n : Connection) → HasCommands s → Planned s (run_state s p)
    → AreOfDevices p → row.dev < 8 → LinkStage s p n → Books s (run_state s p) → IsAskedIn s p row n
    → (g : Goes s p row n) → KeepsBooksIn p row
keeps s p row n gr pd dv lt h books a g now =
    let same : g.change ≡ change_of p row = sym g.row_is.change_is ∙ change_plain s row p dv lt in
    record {
      byte = odd_row p row (implication _ _ (λ z. ap (λ (x : Change). has_odd_parity x.after) (sym same)
          ∙ g.odd ((λ i. is_some (receiver_of (sym (link_connection s p n h) i) (same i))) ∙ z)));
      messages = row_keeps s p row n g.change dv lt books (goes s p row n gr pd dv h books a g) a.settles;
      command = a.command;
      freeing = ap (λ (q : Bool). implies q (not (is_data (bus p))))
          (falls_true (bus p).bsy (bus (row ∷ p)).bsy (ap (λ (x : Change). x.after.bsy) (sym same) ∙ g.row_is.stands));
    }

-- ---- its last row

stops : (s : ScenarioValue) (p : List Row) (row : Row) (n : Connection) → HasCommands s → Planned s (run_state s p)
    → AreOfDevices p → row.dev < 8 → LinkStage s p n → Books s (run_state s p) → IsAskedIn s p row n → Stops s p row n
    → Ends s (run_state s p) row n
stops s p row n gr pd dv lt h books a g =
    let k = run_state s p in
    let pl = run_state_plain s p dv in
    let c = change_plain s row p dv lt in
    let con = pl.connection ∙ link_connection s p n h in
    let phase : HasPhase k = λ m. let w = link_phase s p n h (ap (λ (l : LineSet). l.msg) (sym pl.bus) ∙ m) in
    (ap (λ (l : LineSet). l.cd) pl.bus ∙ w.0, pl.begun ∙ w.1) in
    record {
      connection_is = con;
      next_is = (λ i. connection_after (pl.connection i) (pl.call i) (c i) row) ∙ g.stopped;
      calm = ap (λ (l : LineSet). l.rst) pl.bus ∙ link_calm s p n h;
      phase = phase;
      carries_none = (λ i. is_some (receiver_of (con i) (c i))) ∙ g.carries;
      leaves = λ z. left_whole s p row n gr pd dv h books a phase z (λ b. g.over);
    }

keeps_end : (s : ScenarioValue) (p : List Row) (row : Row) (n : Connection) → HasCommands s → Planned s (run_state s p)
    → AreOfDevices p → row.dev < 8 → LinkStage s p n → Books s (run_state s p) → IsAskedIn s p row n → Stops s p row n
    → KeepsBooksIn p row
keeps_end s p row n gr pd dv lt h books a g now = record {
  byte = odd_row p row (implication _ _ (λ z. wrong'
      (sym g.carries ∙ (λ i. is_some (receiver_of (sym (link_connection s p n h) i) (change_of p row))) ∙ z)));
  messages = end_keeps s p row n dv lt (stops s p row n gr pd dv lt h books a g);
  command = a.command;
  freeing = implication _ _ (λ z. not_data (is_data (bus p)) refl);
}
  where
    pl : IsPlain s p (run_state s p)
    pl = run_state_plain s p dv

    not_data : (q : Bool) → is_data (bus p) ≡ q → not (is_data (bus p)) ≡ true
    not_data true e =
        absurd (data_goes_on s (run_state s p) n pd (pl.begun ∙ g.begun_is) (ap is_data pl.bus ∙ e) g.whereto)
    not_data false e = ap not e

-- ---- the first row of a connection

-- The first byte that a target plans in a reselection is that of IDENTIFY.
message_first : (s : ScenarioValue) (p : List Row) (row : Row) (n : Connection)
    → AreOfDevices p → row.dev < 8 → connection p ≡ None → connection (row ∷ p) ≡ Some n
    → n.reselected ≡ true → IsReadyFor s (run_state s p) n → handshakes (row ∷ p) ≡ no_handshakes
    → message_at s (row ∷ p) ≡ identify_byte (ready_of s (run_state s p) n.target)
message_first s p row n dv lt alone e re r none =
    let k = run_state s p in
    let d = row_reading k.story.bus_state row in
    let pl = run_state_plain s p dv in
    let c = change_plain s row p dv lt in
    let con : k.story.bus_state.connection ≡ None = pl.connection ∙ alone in
    let next : d.next ≡ Some n = (λ i. connection_after (pl.connection i) (pl.call i) (c i) row) ∙ e in
    (λ i. slice_index_or (bytes_of_messages
    (exchange_after s k row d (con i) (next i) (leaving_of s k k.story.bus_state.connection)).plan.messages)
    (none i).requests 0)
    ∙ ap (λ (q : Bool). slice_index_or
    (bytes_of_messages (first_plan q (not q && may_negotiate k n (aim_of k.story.aims n.initiator))
    (if q then messages_if (ready_of s k n.target) else no_messages)).messages) 0 0) re
    ∙ ap (λ (x : Option Ready). slice_index_or (bytes_of_messages (messages_if x)) 0 0) r.ready_is
    ∙ sym (ap identify_byte r.ready_is)

messages_first : (s : ScenarioValue) (p : List Row) (row : Row) (n : Connection) → AreOfDevices p
    → row.dev < 8 → connection p ≡ None → connection (row ∷ p) ≡ Some n → n.reselected ≡ true
    → (run_state s (row ∷ p)).exchange.plan.messages ≡ messages_if (ready_of s (run_state s p) n.target)
messages_first s p row n dv lt alone e re =
    let k = run_state s p in
    let d = row_reading k.story.bus_state row in
    let pl = run_state_plain s p dv in
    let c = change_plain s row p dv lt in
    let con : k.story.bus_state.connection ≡ None = pl.connection ∙ alone in
    let next : d.next ≡ Some n = (λ i. connection_after (pl.connection i) (pl.call i) (c i) row) ∙ e in
    (λ i. (exchange_after s k row d (con i) (next i) (leaving_of s k k.story.bus_state.connection)).plan.messages)
    ∙ ap (λ (q : Bool). (first_plan q (not q && may_negotiate k n (aim_of k.story.aims n.initiator))
    (if q then messages_if (ready_of s k n.target) else no_messages)).messages) re

identify_small : (x : Option Ready) (r : Ready) → x ≡ Some r → r.process.unit < 8 → identify_byte x < 256
identify_small x r e lt = subst (λ (w : ℕ). w < 256) (sym (ap identify_byte e)) (omega arith)

first_driven : (s : ScenarioValue) (p : List Row) (row : Row) (n : Connection) → AreOfDevices p → row.dev < 8
    → connection p ≡ None → connection (row ∷ p) ≡ Some n → IsFirst s p row n → IsMadeFor s (run_state s p) n
    → IsDriven s (row ∷ p) n
first_driven s p row n dv lt alone e f m = go f.begins
  where
    q : List Row
    q = row ∷ p

    go : BeginsConnection q n → IsDriven s q n
    go (by_selection h) = λ x l b. wrong (sym b ∙ h.begun_is)
    go (by_reselection y h) =
        let re : n.reselected ≡ true = sym f.begun_is ∙ h.begun_is in
        let r = m.reselects re in
        let first : ℕ = identify_byte (ready_of s (run_state s p) n.target) in
        let byte : y ≡ byte_bits first = sym (ap (λ (l : LineSet). l.data_bits) h.linked.target) ∙ f.name re in
        let new : is_unasked q ≡ true = ap (λ (w : Handshakes). w.requests == 0) h.handshakes_are in
        let odd = odd_byte first (identify_small (ready_of s (run_state s p) n.target) r.ready r.ready_is r.unit_in) in
        let says = message_first s p row n dv lt alone e re r h.handshakes_are in
        driven_by s q n (ends_reselected y) h.linked (driven_in s q n true false false 0 true true y
        (λ a u z. byte ∙ ap byte_bits (sym says)) (λ a u. wrong (sym new ∙ u))
        (λ u z. ap (λ (w : ℕ). count_ones w % 2 == 1) byte ∙ odd) (λ u z w. wrong (sym new ∙ u)))

no_rise_after : (a b : Bool) → b ≡ false → rises a b ≡ false
no_rise_after a b e = (λ i. not a && e i) ∙ and_false (not a)

first_row : (s : ScenarioValue) (p : List Row) (row : Row) (n : Connection) → AreOfDevices p → row.dev < 8
    → connection p ≡ None → connection (row ∷ p) ≡ Some n → (bus (row ∷ p)).rst ≡ false → IsFirst s p row n
    → IsMadeFor s (run_state s p) n → Begins s (run_state s p) row n
first_row s p row n dv lt alone e calm f m =
    let k = run_state s p in
    let pl = run_state_plain s p dv in
    let c = change_plain s row p dv lt in
    let lines = lines_of f.begins in
    record {
      first = record {
        connection_is = pl.connection ∙ alone;
        next_is = (λ i. connection_after (pl.connection i) (pl.call i) (c i) row) ∙ e;
        lines = f.lines;
        calm = ap (λ (x : Change). x.after.rst) c ∙ calm;
        phase = ap (λ (x : Change). is_message_out x.after) c ∙ lines.0;
        none_asked = ap (λ (w : Handshakes). w.requests) pl.handshakes ∙ f.none_asked;
        asks_none = ap (λ (x : Change). rises x.before.req x.after.req) c
            ∙ no_rise_after (bus p).req (bus (row ∷ p)).req lines.1;
      };
      selects = m.selects;
      reselects = m.reselects;
      names = λ re. ap (λ (x : Change). is_message_in x.after) c ∙ named re f.begins;
    }
  where
    lines_of : BeginsConnection (row ∷ p) n → (is_message_out (bus (row ∷ p)) ≡ false) × ((bus (row ∷ p)).req ≡ false)
    lines_of (by_selection h) =
        (ap is_message_out h.linked.stands.bus_is, ap (λ (l : LineSet). l.req) h.linked.stands.bus_is)
    lines_of (by_reselection y h) =
        (ap is_message_out h.linked.stands.bus_is, ap (λ (l : LineSet). l.req) h.linked.stands.bus_is)

    named : n.reselected ≡ true → BeginsConnection (row ∷ p) n → is_message_in (bus (row ∷ p)) ≡ true
    named re (by_selection h) = wrong' (sym h.begun_is ∙ f.begun_is ∙ re)
    named re (by_reselection y h) = ap is_message_in h.linked.stands.bus_is

first_planned : (s : ScenarioValue) (p : List Row) (row : Row) (n : Connection) → AreOfDevices p → row.dev < 8
    → connection p ≡ None → connection (row ∷ p) ≡ Some n → IsFirst s p row n → IsMadeFor s (run_state s p) n
    → Planned s (run_state s (row ∷ p))
first_planned s p row n dv lt alone e f m = go f.begins
  where
    q : List Row
    q = row ∷ p

    pl : IsPlain s q (run_state s q)
    pl = run_state_plain s q (lt, dv)

    go : BeginsConnection q n → Planned s (run_state s q)
    go (by_selection h) =
        let on = pl.bus ∙ h.linked.stands.bus_is in
        let idle = pl.begun ∙ h.begun_is in
        record {
          serves = λ b z. wrong (sym b ∙ idle);
          message = λ z. wrong' (sym (ap is_in_phase (ap phase_of on)) ∙ ap is_in_phase z);
          repeated = λ b z c. wrong (sym b ∙ idle);
        }
    go (by_reselection y h) =
        let on = pl.bus ∙ h.linked.stands.bus_is in
        let re : n.reselected ≡ true = sym f.begun_is ∙ h.begun_is in
        let names = messages_first s p row n dv lt alone e re in
        record {
          serves = λ b z. wrong' (sym (ap is_data on) ∙ z);
          message = λ z. ap (λ (x : Messages). is_some x.first) names
              ∙ ap (λ (x : Option Ready). is_some (messages_if x).first) (m.reselects re).ready_is;
          repeated = λ b z c. wrong' (sym (ap is_message_out on) ∙ z);
        }

-- ---- a row outside a connection

pub apart_connection : (s : ScenarioValue) (p : List Row) (row : Row) → row.dev < 8 → broken_rule p row ≡ None
    → BusStage s p → is_connected p ≡ false → (bus (row ∷ p)).rst ≡ false → connection p ≡ None
apart_connection s p row lt obeys h alone calm = go (bus p).rst refl (connection p) refl
  where
    go : (q : Bool) → (bus p).rst ≡ q → (o : Option Connection) → connection p ≡ o → connection p ≡ None
    go true f o g = ends_apart s p row lt obeys (under_rst s p h f) calm
    go false f None g = g
    go false f (Some m) g = wrong (sym (λ i. is_some (g i) && not (f i)) ∙ alone)

under_rst_row : (s : ScenarioValue) (p : List Row) (row : Row) → AreOfDevices p → row.dev < 8 → broken_rule p row ≡ None
    → (bus (row ∷ p)).rst ≡ true → RowOf s (run_state s p) row
under_rst_row s p row dv lt obeys on =
    let k = run_state s p in
    let pl = run_state_plain s p dv in
    let c = change_plain s row p dv lt in
    under_reset (ap (λ (x : Change). x.after.rst) c ∙ on)
    ((λ i. is_some (receiver_of (pl.connection i) (c i))) ∙ go (connection p))
  where
    go : (o : Option Connection) → is_some (receiver_of o (change_of p row)) ≡ false
    go None = refl
    go (Some n) = ap (λ (x : Option ℕ). is_some x) (carries_none p row n lt obeys on)

apart_next : (s : ScenarioValue) (p : List Row) (row : Row) → AreUnits s → HasSeats s → Standing s p
    → Books s (run_state s p) → (connection p ≡ None → (bus p).rst ≡ false → IsCalled s p) → BusStage s p
    → is_connected p ≡ false → IsLeast (due s p) 8 row → NextRow s p row → NextAny s p row → NextStood s p row
apart_next s p row u seats st books was h alone m g after = by_bool (bus (row ∷ p)).rst
    (λ f. stood (under_rst_row s p row st.devices m.inside g.obeys f)
    (λ n z w. wrong (sym f ∙ w)) (λ n z w. wrong (sym f ∙ w)) (λ z w. wrong (sym f ∙ w)))
    (λ f. calm_row f (apart_connection s p row m.inside g.obeys h alone f) (connection q) refl)
  where
    q : List Row
    q = row ∷ p

    stood :
        RowOf s (run_state s p) row → ((n : Connection) → connection q ≡ Some n → (bus q).rst ≡ false → IsDriven s q n)
        → ((n : Connection) → connection q ≡ Some n → (bus q).rst ≡ false → Planned s (run_state s q))
        → (connection q ≡ None → (bus q).rst ≡ false → IsCalled s q) → NextStood s p row
    stood of d pn cl = record {
      obeys = g.obeys;
      row_is = of;
      stood = record {
        standing = after.standing;
        here = after.here;
        books = books_on s (run_state s p) row u (aims_are s p) of books;
        driven = d;
        planned = pn;
        called = cl;
        plain = run_state_plain s q after.standing.devices;
      };
    }

    -- RST was true before it
    quiet : (bus q).rst ≡ false → (bus p).rst ≡ true → (bus p).sel ≡ false
    quiet f on = quiet_sel (bus p)
        (same_set-eq (union only_rst (bus p)) only_rst (quiet_at_end s p row m.inside g.obeys (under_rst s p h on) f))

    rst_on : row ≡ row_of_lines row.time row.dev only_rst → (bus q).rst ≡ true
    rst_on z = bus_on (λ y. y.rst) (λ _ _. refl) q row.dev m.inside (ap (λ (w : Row). (drives (w ∷ p) row.dev).rst) z
        ∙ ap (λ (l : LineSet). l.rst) (drives_own p row.time row.dev only_rst))

    calls : (bus q).rst ≡ false → connection p ≡ None → (r : Bool) → (bus p).rst ≡ r → IsCalled s q
    calls f none true on = fresh_call s p row (quiet f on)
    calls f none false off = elim (reset_or_calm s p row st off m) [
      | by_reset z ↦ wrong (sym (rst_on z) ∙ f)
      | by_calm always least ↦ called_on s p row h none off f always least (was none off)
    ]

    made : (bus q).rst ≡ false → connection p ≡ None → (n : Connection) → connection q ≡ Some n
        → (r : Bool) → (bus p).rst ≡ r → IsMadeFor s (run_state s p) n
    made f none n e true on =
        let w = made_is p row n none e in
        wrong' (sym (λ i. falls (quiet f on i) (bus q).sel) ∙ w.sel)
    made f none n e false off = made_for s p row.time n u seats st.devices (was none off) (made_is p row n none e).made

    calm_row : (bus q).rst ≡ false → connection p ≡ None → (o : Option Connection) → connection q ≡ o
        → NextStood s p row
    calm_row f none None e =
        let pl = run_state_plain s p st.devices in
        let c = change_plain s row p st.devices m.inside in
        stood (row_apart (pl.connection ∙ none) ((λ i. connection_after (pl.connection i) (pl.call i) (c i) row) ∙ e))
        (λ n z w. absurd (none_some n (sym e ∙ z))) (λ n z w. absurd (none_some n (sym e ∙ z)))
        (λ z w. calls f none (bus p).rst refl)
    calm_row f none (Some n) e =
        let first = is_first s p row n st h none f e m g in
        let made_is = made f none n e (bus p).rst refl in
        stood (begins n (first_row s p row n st.devices m.inside none e f first made_is))
        (λ x z w. subst (λ (y : Connection). IsDriven s q y) (same_Some n x (sym e ∙ z))
        (first_driven s p row n st.devices m.inside none e first made_is))
        (λ x z w. first_planned s p row n st.devices m.inside none e first made_is)
        (λ z w. absurd (none_some n (sym z ∙ e)))

-- ---- a row of a connection

-- What is planned after it.
planned_goes : (s : ScenarioValue) (p : List Row) (row : Row) (n : Connection) → HasCommands s
    → Planned s (run_state s p) → AreOfDevices p → LinkStage s p n → Books s (run_state s p) → IsAskedIn s p row n
    → Goes s p row n → Planned s (run_state s (row ∷ p))
planned_goes s p row n gr pd dv h books a g =
    let k = run_state s p in
    let pl = run_state_plain s p dv in
    let con = pl.connection ∙ link_connection s p n h in
    let calm = ap (λ (l : LineSet). l.rst) pl.bus ∙ link_calm s p n h in
    let of = goes s p row n gr pd dv h books a g in
    let c = g.row_is.change_is in
    planned_on s k row n g.change g.row_is of.phase (books.gives n con calm)
    (λ b. ap is_in_message ((books.speaks n con calm).before_all b).cause_is) (λ z. of.leaves (ap changes_phase c ∙ z))
    (λ z b. g.first z (sym pl.begun ∙ b)) (λ z b. g.whereto z (sym pl.begun ∙ b)) pd

-- What its ends drive after it.
driven_after_row : (s : ScenarioValue) (q : List Row) (n : Connection) → AfterDriven s q n
    → (x : Connection) → connection q ≡ Some x → IsDriven s q x
driven_after_row s q n (frees e) x z = absurd (none_some x (sym e ∙ z))
driven_after_row s q n (goes_on e l b d) x z =
    subst (λ (y : Connection). IsDriven s q y) (same_Some n x (sym l.stands.connection_is ∙ z)) (driven_by s q n e l d)

linked_next : (s : ScenarioValue) (p : List Row) (row : Row) (n : Connection) → AreUnits s → HasCommands s
    → GivesByteValues s → HasShortLatencies s → HasShortRuns s → Stood s p → LinkStage s p n → IsAsked s p row
    → IsLeast (due s p) 8 row → NextStood s p row
linked_next s p row n u gr vs fits runs was h a m = go (bus (row ∷ p)).rst refl
  where
    q : List Row
    q = row ∷ p

    k : RunState
    k = run_state s p

    dv : AreOfDevices p
    dv = was.standing.devices

    stood : NextAny s p row → RowOf s k row
        → ((x : Connection) → connection q ≡ Some x → (bus q).rst ≡ false → IsDriven s q x)
        → ((x : Connection) → connection q ≡ Some x → (bus q).rst ≡ false → Planned s (run_state s q))
        → NextStood s p row
    stood after of d pn = record {
      obeys = after.obeys;
      row_is = of;
      stood = record {
        standing = after.standing;
        here = after.here;
        books = books_on s k row u (aims_are s p) of was.books;
        driven = d;
        planned = pn;
        called = λ z w. fresh_call s p row (link_sel s p n h);
        plain = run_state_plain s q after.standing.devices;
      };
    }

    rst_on : row ≡ row_of_lines row.time row.dev only_rst → (bus q).rst ≡ true
    rst_on z = bus_on (λ y. y.rst) (λ _ _. refl) q row.dev m.inside (ap (λ (w : Row). (drives (w ∷ p) row.dev).rst) z
        ∙ ap (λ (l : LineSet). l.rst) (drives_own p row.time row.dev only_rst))

    by_facts : Planned s k → IsAskedIn s p row n → AfterDriven s q n → RowFacts s p row n → NextStood s p row
    by_facts pd asked next (stays g) = stood
        (from_any s p row fits runs was.standing was.here (keeps s p row n gr pd dv m.inside h was.books asked g) m)
        (row_goes_on n g.change (goes s p row n gr pd dv h was.books asked g))
        (λ x e w. driven_after_row s q n next x e) (λ x e w. planned_goes s p row n gr pd dv h was.books asked g)
    by_facts pd asked next (ends_here g) = stood
        (from_any s p row fits runs was.standing was.here (keeps_end s p row n gr pd dv m.inside h was.books asked g) m)
        (row_ends n (stops s p row n gr pd dv m.inside h was.books asked g)) (λ x e w. driven_after_row s q n next x e)
        (λ x e w. absurd (none_some x (sym g.stopped ∙ e)))

    calm_row : (bus q).rst ≡ false → CalmStanding s p → IsLeast (unreset_due s p) 8 row → NextStood s p row
    calm_row calm always least =
        let asked = a n (link_connection s p n h) (link_calm s p n h) calm in
        let values = values_of s p n gr dv (vs p n dv) in
        let driven = was.driven n (link_connection s p n h) (link_calm s p n h) in
        let link = link_row s p row n dv h least in
        let order = always.ahead row.dev least.inside (record { time = row.time; kind = row.kind }) least.is_due in
        by_facts (was.planned n (link_connection s p n h) (link_calm s p n h)) asked
        (after_row s p row n dv always order values driven link) (row_facts s p row n dv values driven link)

    go : (r : Bool) → (bus q).rst ≡ r → NextStood s p row
    go true on =
        let after = from_any s p row fits runs was.standing was.here (unasked_reset p row on) m in
        stood after (under_rst_row s p row dv m.inside after.obeys on) (λ x e w. wrong (sym on ∙ w))
        (λ x e w. wrong (sym on ∙ w))
    go false calm = elim (reset_or_calm s p row was.standing (link_calm s p n h) m) [
      | by_reset z ↦ wrong (sym (rst_on z) ∙ calm)
      | by_calm always least ↦ calm_row calm always least
    ]

-- ---- any row

pub next_stood : (s : ScenarioValue) (p : List Row) (row : Row) → AreUnits s → HasSeats s → HasCommands s
    → GivesByteValues s → HasShortLatencies s → HasShortRuns s → Stood s p → IsAsked s p row → IsLeast (due s p) 8 row
    → NextStood s p row
next_stood s p row u seats gr vs fits runs was a m = go was.here
  where
    go : AnyStage s p → NextStood s p row
    go (linked n h) = linked_next s p row n u gr vs fits runs was h a m
    go (apart h alone) = apart_next s p row u seats was.standing was.books was.called h alone m
        (from_stage s p row fits was.standing h alone m)
        (from_any s p row fits runs was.standing (apart h alone) (unasked_apart p row alone) m)

-- ---- Before the first row of a trace.

pub stood_first : (s : ScenarioValue) → AreUnits s → Stood s []
stood_first s u = record {
  standing = standing_first s;
  here = apart (stage_first s) refl;
  books = books_are s [] u tt;
  driven = λ n e w. absurd (none_some n e);
  planned = λ n e w. absurd (none_some n e);
  called = λ e w k x f g. absurd (none_some k f);
  plain = run_state_plain s [] tt;
}
