-- The connection of a transcript is that of the bus; messages are said in MESSAGE OUT alone, and bytes taken in COMMAND
-- and data.
use Rattle.transcript_laws.proofs
use proofs.Names.{ℕ, ◌≡◌, ◌∙◌, Bool, true, false, not, ◌&&◌, ◌%◌, List, [], ◌∷◌, ◌++◌, Option, Some, None, refl, sym}
use proofs.Names.{ap, ◌||◌, is_some, if◌then◌else◌, wrong, wrong', LineSet, changes_phase, is_command, is_data}
use proofs.Names.{is_message_in, is_message_out, is_fault, receiver_in, Change, Connection, Row, MsgIn, MsgOut}
use proofs.Names.{ScenarioValue, BusState, RowReading, row_reading, message_in, message_out, is_status_phase, Exchange}
use proofs.Names.{RunState, bus_of, run_state, reading_is, in_connection, SamePhase, same_phase_is, reading_in}
use proofs.Names.{OpenedValue, with_part, with_in_if, with_said, with_crossing, with_fault, is_completion}
use proofs.{Names.{with_still_row, phase_entered, phase_over, Completion, StatusPhase, Status}, Opened.Rows.{Going}}
use proofs.{Opened.Rows.{RowMade, made_still, made_crossing, made_turn, Holds}, Parts.Lists.{over_keeps}}
pub use Rattle.progress_laws.specs.book_laws.proofs.Given.Rows.{in_same}
pub use Rattle.progress_laws.specs.book_laws.proofs.Said.Rows.{out_same}

pub record OpenedBytes (k : RunState) (n : Connection) (o : OpenedValue) : Type 0 where
  pub connection_is : o.connection ≡ n
  pub unbegun : k.exchange.begun ≡ false → o.bytes ≡ []
  pub said : is_message_out (bus_of k) ≡ false → o.said ≡ []
  pub bytes : (is_command (bus_of k) || is_data (bus_of k)) ≡ false → o.bytes ≡ []

-- ---- rows that leave all this

-- What is said, and the bytes, are as before.
pub record KeepsTalk (o after : OpenedValue) : Type 0 where
  pub connection : after.connection ≡ o.connection
  pub said : after.said ≡ o.said
  pub bytes : after.bytes ≡ o.bytes
  pub parts : after.parts ≡ o.parts
  pub held : after.held ≡ o.held

pub still_keeps : (o : OpenedValue) (w : BusState) (c : Change) (row : Row)
    → KeepsTalk o (with_still_row o w c row.kind)
still_keeps o w c row = go (is_completion o w.dialogue.half c)
  where
    go : (q : Bool)
        → KeepsTalk o (if q then with_part o Completion else with_fault o (is_fault row.kind && is_some w.crossed))
    go true = record { connection = refl; said = refl; bytes = refl; parts = refl; held = refl }
    go false = record { connection = refl; said = refl; bytes = refl; parts = refl; held = refl }

-- The phase is as before.
pub moves_same : (a b : LineSet) → SamePhase a b → (is_command b || is_data b) ≡ (is_command a || is_data a)
moves_same a b h = λ i. (not (h.msg i) && h.cd i && not (h.io i)) || (not (h.msg i) && not (h.cd i))

-- ---- a byte crosses

pub turned : (m : OpenedValue) (l : LineSet) → KeepsTalk m (phase_entered m l)
turned m l = go (is_status_phase l)
  where
    go : (q : Bool) → KeepsTalk m (if q then with_part m StatusPhase else m)
    go true = record { connection = refl; said = refl; bytes = refl; parts = refl; held = refl }
    go false = record { connection = refl; said = refl; bytes = refl; parts = refl; held = refl }

-- In which phase, what it changes.
pub data CrossingMade (o after : OpenedValue) (anew : Bool) (b : LineSet) (byte : ℕ) (out : Option MsgOut)
    (into : Option MsgIn) : Type 0 where
  crossed_out : is_message_out b ≡ true → after ≡ with_said o anew out → CrossingMade o after anew b byte out into
  crossed_in : is_message_out b ≡ false → is_message_in b ≡ true → after ≡ with_in_if o into
      → CrossingMade o after anew b byte out into
  crossed_status : is_message_out b ≡ false → is_message_in b ≡ false → is_status_phase b ≡ true
      → after ≡ with_part o (Status byte) → CrossingMade o after anew b byte out into
  crossed_else : is_message_out b ≡ false → is_message_in b ≡ false → is_status_phase b ≡ false
      → after ≡ record o { bytes = o.bytes ++ byte ∷ [] } → CrossingMade o after anew b byte out into

pub crossing_made : (o after : OpenedValue) (w : BusState) (n : Connection) (c : Change)
    → after ≡ with_crossing o w.dialogue.is_last (reading_in w n c true)
    → CrossingMade o after w.dialogue.is_last c.before (c.after.data_bits % 256) (message_out w.dialogue c true)
    (message_in w.dialogue c true)
crossing_made o after w n c e =
    go (is_message_out c.before) (is_message_in c.before) (is_status_phase c.before) refl refl refl
  where
    byte : ℕ
    byte = c.after.data_bits % 256

    out : Option MsgOut
    out = message_out w.dialogue c true

    into : Option MsgIn
    into = message_in w.dialogue c true

    go : (x y z : Bool) → is_message_out c.before ≡ x → is_message_in c.before ≡ y → is_status_phase c.before ≡ z
        → CrossingMade o after w.dialogue.is_last c.before byte out into
    go true y z f g h = crossed_out f (e
        ∙ (λ i. if f i then with_said o w.dialogue.is_last out else if is_message_in c.before then with_in_if o into
        else if is_status_phase c.before then with_part o (Status byte) else record o { bytes = o.bytes ++ byte ∷ [] }))
    go false true z f g h =
        crossed_in f g (e ∙ (λ i. if f i then with_said o w.dialogue.is_last out else if g i then with_in_if o into
        else if is_status_phase c.before then with_part o (Status byte) else record o { bytes = o.bytes ++ byte ∷ [] }))
    go false false true f g h = crossed_status f g h (e
        ∙ (λ i. if f i then with_said o w.dialogue.is_last out else if g i then with_in_if o into
        else if h i then with_part o (Status byte) else record o { bytes = o.bytes ++ byte ∷ [] }))
    go false false false f g h =
        crossed_else f g h (e ∙ (λ i. if f i then with_said o w.dialogue.is_last out else if g i then with_in_if o into
        else if h i then with_part o (Status byte) else record o { bytes = o.bytes ++ byte ∷ [] }))

-- ---- row by row

pub lines_same : (s : ScenarioValue) (p : List Row) (row : Row) (n : Connection) (g : Going s p row n)
    → changes_phase g.going.change ≡ false → SamePhase (bus_of (run_state s p)) (bus_of (run_state s (row ∷ p)))
lines_same s p row n g ep =
    let k : RunState = run_state s p in
    let i = in_connection s k row n g.going.change (changes_phase g.going.change)
    (is_some (receiver_in n g.going.change)) (is_fault row.kind) g.going.goes.row_is refl refl refl in
    let h = same_phase_is g.going.change ep in
    let on = g.going.goes.row_is.bus_is in
    record {
      msg = ap (λ (l : LineSet). l.msg) i.bus_is ∙ h.msg ∙ ap (λ (l : LineSet). l.msg) (sym on);
      cd = ap (λ (l : LineSet). l.cd) i.bus_is ∙ h.cd ∙ ap (λ (l : LineSet). l.cd) (sym on);
      io = ap (λ (l : LineSet). l.io) i.bus_is ∙ h.io ∙ ap (λ (l : LineSet). l.io) (sym on);
    }

-- A phase has begun where it had, or begins with the row.
pub begun_same : (s : ScenarioValue) (p : List Row) (row : Row) (n : Connection) (g : Going s p row n)
    → changes_phase g.going.change ≡ false → (run_state s (row ∷ p)).exchange.begun ≡ (run_state s p).exchange.begun
begun_same s p row n g ep =
    let k : RunState = run_state s p in
    let i = in_connection s k row n g.going.change false (is_some (receiver_in n g.going.change))
    (is_fault row.kind) g.going.goes.row_is ep refl refl in
    ap (λ (x : Exchange). x.begun) i.exchange_is

pub begun_turned : (s : ScenarioValue) (p : List Row) (row : Row) (n : Connection) (g : Going s p row n)
    → changes_phase g.going.change ≡ true → (run_state s (row ∷ p)).exchange.begun ≡ true
begun_turned s p row n g ep =
    let k : RunState = run_state s p in
    let i = in_connection s k row n g.going.change true (is_some (receiver_in n g.going.change))
    (is_fault row.kind) g.going.goes.row_is ep refl refl in
    ap (λ (x : Exchange). x.begun) i.exchange_is

-- The reading of the row.
pub crosses_is : (s : ScenarioValue) (p : List Row) (row : Row) (n : Connection) (g : Going s p row n)
    → (q : Bool) → is_some (receiver_in n g.going.change) ≡ q
    → (row_reading (run_state s p).story.bus_state row) ≡ reading_in (run_state s p).story.bus_state n g.going.change q
crosses_is s p row n g q e = reading_is (run_state s p) row n g.going.change q g.going.goes.row_is e

pub begun_crossing : (s : ScenarioValue) (p : List Row) (row : Row) (n : Connection) (g : Going s p row n)
    → (dev : ℕ) → receiver_in n g.going.change ≡ Some dev → (run_state s p).exchange.begun ≡ true
begun_crossing s p row n g dev er = g.going.goes.begun
    (ap (λ (d : RowReading). d.crosses) (crosses_is s p row n g true (ap (λ (x : Option ℕ). is_some x) er)))

in_if : (o : OpenedValue) (into : Option MsgIn) → (with_in_if o into).connection ≡ o.connection
in_if o None = refl
in_if o (Some m) = refl

in_said : (o : OpenedValue) (into : Option MsgIn) → (with_in_if o into).said ≡ o.said
in_said o None = refl
in_said o (Some m) = refl

in_bytes : (o : OpenedValue) (into : Option MsgIn) → (with_in_if o into).bytes ≡ o.bytes
in_bytes o None = refl
in_bytes o (Some m) = refl

-- A phase of bytes that are no messages.
carrying : (b : LineSet) → (b.msg ≡ true → b.cd ≡ true) → is_message_out b ≡ false → is_message_in b ≡ false
    → is_status_phase b ≡ false → (is_command b || is_data b) ≡ true
carrying b phase no_out no_in no_status = go b.msg b.cd b.io phase no_out no_in no_status
  where
    go : (m d i : Bool) → (m ≡ true → d ≡ true) → (m && d && not i) ≡ false → (m && d && i) ≡ false
        → (not m && d && i) ≡ false → ((not m && d && not i) || (not m && not d)) ≡ true
    go true true true h x y z = wrong y
    go true true false h x y z = wrong x
    go true false i h x y z = wrong' (h refl)
    go false true true h x y z = wrong z
    go false true false h x y z = refl
    go false false i h x y z = refl

on_row : (s : ScenarioValue) (p : List Row) (row : Row) (n : Connection) (g : Going s p row n) (o after : OpenedValue)
    → RowMade (run_state s p) row n g.going.change o after → OpenedBytes (run_state s p) n o
    → OpenedBytes (run_state s (row ∷ p)) n after
on_row s p row n g o after (made_still ep none e) h =
    let k : RunState = run_state s p in
    let t = still_keeps o k.story.bus_state g.going.change row in
    let lines = lines_same s p row n g ep in
    record {
      connection_is = ap (λ (x : OpenedValue). x.connection) e ∙ t.connection ∙ h.connection_is;
      unbegun = λ b. ap (λ (x : OpenedValue). x.bytes) e ∙ t.bytes ∙ h.unbegun (sym (begun_same s p row n g ep) ∙ b);
      said = λ z. ap (λ (x : OpenedValue). x.said) e ∙ t.said
          ∙ h.said (sym (out_same (bus_of k) (bus_of (run_state s (row ∷ p))) lines) ∙ z);
      bytes = λ z. ap (λ (x : OpenedValue). x.bytes) e ∙ t.bytes
          ∙ h.bytes (sym (moves_same (bus_of k) (bus_of (run_state s (row ∷ p))) lines) ∙ z);
    }
on_row s p row n g o after (made_crossing dev ep er e) h = go (crossing_made o after k.story.bus_state n c e)
  where
    k : RunState
    k = run_state s p

    j : RunState
    j = run_state s (row ∷ p)

    c : Change
    c = g.going.change

    lines : SamePhase (bus_of k) (bus_of j)
    lines = lines_same s p row n g ep

    on : bus_of k ≡ c.before
    on = g.going.goes.row_is.bus_is

    begun : {A : Type 0} → j.exchange.begun ≡ false → A
    begun b = wrong (sym (begun_same s p row n g ep ∙ begun_crossing s p row n g dev er) ∙ b)

    said_before : is_message_out (bus_of j) ≡ false → o.said ≡ []
    said_before z = h.said (sym (out_same (bus_of k) (bus_of j) lines) ∙ z)

    bytes_before : (is_command (bus_of j) || is_data (bus_of j)) ≡ false → o.bytes ≡ []
    bytes_before z = h.bytes (sym (moves_same (bus_of k) (bus_of j) lines) ∙ z)

    phase : c.before.msg ≡ true → c.before.cd ≡ true
    phase z = ap (λ (l : LineSet). l.cd) (sym on) ∙ (g.going.goes.phase (ap (λ (l : LineSet). l.msg) on ∙ z)).0

    go : CrossingMade o after k.story.bus_state.dialogue.is_last c.before (c.after.data_bits % 256)
        (message_out k.story.bus_state.dialogue c true) (message_in k.story.bus_state.dialogue c true)
        → OpenedBytes j n after
    go (crossed_out x f) = record {
      connection_is = ap (λ (y : OpenedValue). y.connection) f ∙ h.connection_is;
      unbegun = λ b. begun b;
      said = λ z. wrong (sym (out_same (bus_of k) (bus_of j) lines ∙ ap is_message_out on ∙ x) ∙ z);
      bytes = λ z. ap (λ (y : OpenedValue). y.bytes) f ∙ bytes_before z;
    }
    go (crossed_in x y f) = record {
      connection_is = ap (λ (y : OpenedValue). y.connection) f ∙ in_if o (message_in k.story.bus_state.dialogue c true)
          ∙ h.connection_is;
      unbegun = λ b. begun b;
      said = λ z. ap (λ (y : OpenedValue). y.said) f ∙ in_said o (message_in k.story.bus_state.dialogue c true)
          ∙ said_before z;
      bytes = λ z. ap (λ (y : OpenedValue). y.bytes) f ∙ in_bytes o (message_in k.story.bus_state.dialogue c true)
          ∙ bytes_before z;
    }
    go (crossed_status x y z f) = record {
      connection_is = ap (λ (y : OpenedValue). y.connection) f ∙ h.connection_is;
      unbegun = λ b. begun b;
      said = λ z. ap (λ (y : OpenedValue). y.said) f ∙ said_before z;
      bytes = λ z. ap (λ (y : OpenedValue). y.bytes) f ∙ bytes_before z;
    }
    go (crossed_else x y z f) = record {
      connection_is = ap (λ (y : OpenedValue). y.connection) f ∙ h.connection_is;
      unbegun = λ b. begun b;
      said = λ z. ap (λ (y : OpenedValue). y.said) f ∙ said_before z;
      bytes = λ w. wrong (sym (moves_same (bus_of k) (bus_of j) lines
          ∙ ap (λ (l : LineSet). is_command l || is_data l) on ∙ carrying c.before phase x y z) ∙ w);
    }
on_row s p row n g o after (made_turn ep none ef e) h =
    let c : Change = g.going.change in
    let m : OpenedValue = phase_over o c.before (run_state s p).story.bus_state.dialogue.half true in
    let over = over_keeps o c.before (run_state s p).story.bus_state.dialogue.half true in
    let t = turned m c.after in
    record {
      connection_is = ap (λ (x : OpenedValue). x.connection) e ∙ t.connection ∙ over.connection ∙ h.connection_is;
      unbegun = λ b. ap (λ (x : OpenedValue). x.bytes) e ∙ t.bytes ∙ over.bytes;
      said = λ z. ap (λ (x : OpenedValue). x.said) e ∙ t.said ∙ over.said;
      bytes = λ z. ap (λ (x : OpenedValue). x.bytes) e ∙ t.bytes ∙ over.bytes;
    }

pub bytes_hold : (s : ScenarioValue) → Holds s OpenedBytes
bytes_hold s = record {
  begins = λ p row n starts now con calm b out fresh.
      record { connection_is = refl; unbegun = λ z. refl; said = λ z. refl; bytes = λ z. refl };
  goes_on = λ p row n g o after made h. on_row s p row n g o after made h;
}
