-- A row that leaves a connection and its messages as they are changes nothing of the transcript but the bus.
use Rattle.std.proofs.Common.{◌≡◌, ◌∙◌, Bool, true, false, [], refl, sym, ap, Option, Some, None}
use Rattle.std.specs.Prelude.{not, ◌&&◌, is_some, is_none, if◌then◌else◌, slice_set}
use Rattle.std.proofs.lemmas.Bool.{and_parts}
use Rattle.bus_trace.specs.declared.rows.Kind.{Kind}
use Rattle.bus_trace.specs.declared.rows.Row.{Row}
use Rattle.bus_trace.specs.declared.changes.Change.{Change}
use Rattle.bus_trace.specs.declared.connection.Connection.{Connection}
use Rattle.bus_trace.specs.Changes.{rises}
use Rattle.bus_trace.specs.Phases.{changes_phase, is_message_in}
use Rattle.bus_trace.specs.Terms.{call_after, connection_after, is_fault, receiver_of}
use Rattle.bus_phases.specs.Half.{is_nil}
use Rattle.story_model.specs.BusState.{BusState, RowReading, change_by, row_reading}
use Rattle.story_model.specs.PairAgreements.{agreement_in}
use Rattle.bus_transcript.specs.declared.part.Part.TheVariants.{Completion}
use Rattle.bus_transcript.specs.Opened.{OpenedValue, is_complete, is_completion, with_fault, with_part, with_row}
use Rattle.bus_transcript.specs.Opened.{with_still_row, with_crossing, phase_entered, phase_over}
use Rattle.bus_transcript.specs.Rows.{TranscriberValue, after_row, bus_seen, by_change, in_connection, is_silent}
use Rattle.bus_transcript.specs.Rows.{on_bus, under_reset, with_bus}
use Rattle.bus_transcript.specs.Still.{stands_on, is_still, still_bus}
use Rattle.bus_transcript.proofs.Silence.{silent_stays}
use Rattle.bus_base.proofs.Tests.{or_false}

-- ---- tests

second_false : (a b c d e : Bool) → b ≡ false → (a && b && c && d && e) ≡ false
second_false true true c d e z = absurd (cc)
second_false true false c d e z = refl
second_false false b c d e z = refl

is_not : (a : Bool) → not a ≡ true → a ≡ false
is_not true z = absurd (cc)
is_not false z = refl

opposed : true ≡ false → ⊥
opposed z = cc

is_there : {T : Type 0} (o : Option T) → is_none o ≡ true → is_some o ≡ false
is_there None z = refl
is_there (Some x) z = absurd (cc)

-- ---- the connection

stays_open : (k : OpenedValue) (w : BusState) (d : RowReading) (kind : Kind) → d.crosses ≡ false
    → changes_phase d.change ≡ false → is_message_in d.change.before ≡ false → is_fault kind ≡ false
    → with_row k w d kind ≡ k
stays_open k w d kind crosses phase message fault =
    (λ i. if crosses i then with_crossing k w.dialogue.is_last d
    else if phase i then phase_entered (phase_over k d.change.before w.dialogue.half true) d.change.after
    else with_still_row k w d.change kind)
    ∙ (λ i. if taken i then with_part k Completion else with_fault k (fault i && is_some w.crossed))
    ∙ (λ i. record k { struck = or_false k.struck i })
  where
    taken : is_completion k w.dialogue.half d.change ≡ false
    taken = second_false (rises d.change.before.ack d.change.after.ack) (is_message_in d.change.before)
        (is_complete k.held) (is_nil w.dialogue.half) (not d.change.after.atn) message

-- What a row leaves in which this connection stands, before and after.
record Stays (d : RowReading) (row : Row) (before : Option Connection) (n : Connection) : Type 0 where
  stands : before ≡ Some n
  next : d.next ≡ Some n
  rst : d.change.after.rst ≡ false
  crosses : d.crosses ≡ false
  phase : changes_phase d.change ≡ false
  message : is_message_in d.change.before ≡ false
  fault : is_fault row.kind ≡ false

by_still : (t : TranscriberValue) (d : RowReading) (row : Row) (n : Connection) → Stays d row t.bus_state.connection n
    → by_change t d row ≡ t
unfolding by_change
by_still t d row n h =
    (λ i. if h.rst i then under_reset t d row else on_bus t t.bus_state.connection d.next d row)
    ∙ (λ i. on_bus t (h.stands i) (h.next i) d row)
    ∙ go t.opened refl
  where
    go : (o : Option OpenedValue) → t.opened ≡ o → in_connection t o d row.kind ≡ t
    go None e = refl
    go (Some k) e = λ i. record t {
      opened =
          (ap (λ (x : OpenedValue). Some x) (stays_open k t.bus_state d row.kind h.crosses h.phase h.message h.fault)
          ∙ sym e) i;
    }

-- ---- the bus

seen_still : (w : BusState) (d : RowReading) (row : Row) (n : Connection) → Stays d row w.connection n
    → is_none (receiver_of w.connection d.change) ≡ true → still_bus w row d.change ≡ bus_seen w row d
seen_still w d row n h none = λ i. record {
  driven = slice_set w.driven row.dev d.change.next;
  bus = d.change.after;
  call = call_after w.call d.change row;
  connection = (h.stands ∙ sym h.next) i;
  dialogue = silent_stays w.connection d.next w.dialogue (λ i t. agreement_in w.agreed i t) d.change silent i;
  agreed = [];
  crossed = if sym h.crosses i then Some d.change else None;
}
  where
    silent : is_silent w.connection d.next d.change ≡ true
    silent =
        (λ i. is_silent (h.stands i) (h.next i) d.change)
        ∙ (λ i. is_none (receiver_of (sym h.stands i) d.change) && not (h.phase i))
        ∙ (λ i. none i && true)

stands_in : (w : BusState) (c : Change) (kind : Kind) → is_still w c kind ≡ true → is_some w.connection ≡ true
stands_in w c kind is =
    let four = and_parts (stands_on c && (is_none (receiver_of w.connection c) && not (changes_phase c))
    && is_some w.connection && not (is_fault kind)) (not (is_message_in c.before)) is in
    let three = and_parts (stands_on c && (is_none (receiver_of w.connection c) && not (changes_phase c))
    && is_some w.connection) (not (is_fault kind)) four.0 in
    (and_parts (stands_on c && (is_none (receiver_of w.connection c) && not (changes_phase c)))
    (is_some w.connection) three.0).1

stays : (w : BusState) (row : Row) (n : Connection)
    → w.connection ≡ Some n → is_still w (change_by w row) row.kind ≡ true
    → Stays (row_reading w row) row w.connection n × is_none (receiver_of w.connection (change_by w row)) ≡ true
stays w row n con is =
    let c : Change = change_by w row in
    let four = and_parts (stands_on c && (is_none (receiver_of w.connection c) && not (changes_phase c))
    && is_some w.connection && not (is_fault row.kind)) (not (is_message_in c.before)) is in
    let three = and_parts (stands_on c && (is_none (receiver_of w.connection c) && not (changes_phase c))
    && is_some w.connection) (not (is_fault row.kind)) four.0 in
    let two = and_parts (stands_on c && (is_none (receiver_of w.connection c) && not (changes_phase c)))
    (is_some w.connection) three.0 in
    let one = and_parts (stands_on c) (is_none (receiver_of w.connection c) && not (changes_phase c)) two.0 in
    let on = and_parts c.after.bsy (not c.after.rst) one.0 in
    let silent = and_parts (is_none (receiver_of w.connection c)) (not (changes_phase c)) one.1 in (
      record {
        stands = con;
        next = (λ i. connection_after (con i) w.call c row) ∙ (λ i. if on.0 i then Some n else None);
        rst = is_not c.after.rst on.1;
        crosses = is_there (receiver_of w.connection c) silent.0;
        phase = is_not (changes_phase c) silent.1;
        message = is_not (is_message_in c.before) four.1;
        fault = is_not (is_fault row.kind) three.1;
      },
      silent.0,
    )

-- ---- the row

pub still_row : (t : TranscriberValue) (row : Row) → is_still t.bus_state (change_by t.bus_state row) row.kind ≡ true
    → record t { bus_state = still_bus t.bus_state row (change_by t.bus_state row) } ≡ after_row t row
still_row t row is = go t.bus_state.connection refl
  where
    w : BusState
    w = t.bus_state

    go : (o : Option Connection) → w.connection ≡ o
        → record t { bus_state = still_bus w row (change_by w row) } ≡ after_row t row
    go None e =
        absurd (opposed (sym (stands_in w (change_by w row) row.kind is) ∙ ap (λ (o : Option Connection). is_some o) e))
    go (Some n) e =
        let h = stays w row n e is in
        (λ i. record t { bus_state = seen_still w (row_reading w row) row n h.0 h.1 i })
        ∙ (λ i. with_bus (sym (by_still t (row_reading w row) row n h.0) i) row (row_reading w row))
