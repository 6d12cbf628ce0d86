-- The bus of a transcript is that of the story, but for the agreements.
use Rattle.transcript_laws.proofs
use proofs.Names.{ℕ, ◌≡◌, ◌∙◌, Bool, true, false, List, [], ◌∷◌, ◌++◌, Option, Some, None, refl, sym, ap, ◌%◌, not}
use proofs.Names.{is_some, slice_set, if◌then◌else◌, is_command, is_message_out, is_message_in, changes_phase}
use proofs.Names.{call_after, connection_after, receiver_of, Agreement, Change, Connection, Row, got_out, got_in}
use proofs.Names.{asynchronous, fresh_bytes, byte_out, byte_in, byte_else, heard_with_command, byte_crosses}
use proofs.Names.{phase_begins, dialogue_after, left_of, Dialogue, ScenarioValue, BusState, RowReading, change_by}
use proofs.Names.{row_reading, whole_out, whole_in, message_out, message_in, agreement_in, Story, story, change_same}
use proofs.Names.{row_bus, TranscriberValue, by_change, transcribed}
use Rattle.due_model.specs.bus_phases.specs.Dialogue.{opened}

-- ---- a row leaves it as it is, until the row is over

-- ---- what is heard half

record HearAlike (d e : Dialogue) : Type 0 where
  half : d.half ≡ e.half
  fresh : d.fresh ≡ e.fresh
  is_last : d.is_last ≡ e.is_last

fresh_same : (d e : Dialogue) → HearAlike d e → fresh_bytes d ≡ fresh_bytes e
fresh_same d e h = λ i. if h.is_last i then [] else h.fresh i

chosen : (q : Bool) (d e f g : Dialogue) → HearAlike d e → HearAlike f g
    → HearAlike (if q then d else f) (if q then e else g)
chosen true d e f g x y = x
chosen false d e f g x y = y

else_alike : (d e : Dialogue) (q : Bool) (byte : ℕ) → HearAlike d e → HearAlike
    (if q then record d { heard = heard_with_command d.heard byte; begun = true } else record d { begun = true })
    (if q then record e { heard = heard_with_command e.heard byte; begun = true } else record e { begun = true })
else_alike d e true byte h = record { half = h.half; fresh = h.fresh; is_last = h.is_last }
else_alike d e false byte h = record { half = h.half; fresh = h.fresh; is_last = h.is_last }

byte_alike : (d e : Dialogue) (c : Change) → HearAlike d e → HearAlike (byte_crosses d c) (byte_crosses e c)
byte_alike d e c h =
    let byte : ℕ = c.after.data_bits % 256 in
    chosen (is_message_out c.before) (byte_out d byte (not c.after.atn)) (byte_out e byte (not c.after.atn)) _ _
    (record {
      half = λ i. left_of (got_out (h.half i ++ byte ∷ [])) (h.half i ++ byte ∷ []);
      fresh = λ i. left_of (got_out (fresh_same d e h i ++ byte ∷ [])) (fresh_same d e h i ++ byte ∷ []);
      is_last = refl;
    }) (chosen (is_message_in c.before) (byte_in d byte) (byte_in e byte) (byte_else d c.before byte)
    (byte_else e c.before byte) (record {
      half = λ i. left_of (got_in (h.half i ++ byte ∷ [])) (h.half i ++ byte ∷ []);
      fresh = h.fresh;
      is_last = h.is_last;
    }) (else_alike d e (is_command c.before) byte h))

phase_alike : (d e : Dialogue) → HearAlike (phase_begins d) (phase_begins e)
phase_alike d e = record { half = refl; fresh = refl; is_last = refl }

opened_alike : (a b : Agreement) → HearAlike (opened a) (opened b)
opened_alike a b = record { half = refl; fresh = refl; is_last = refl }

after_alike : (d e : Dialogue) (before after : Option Connection) (a b : ℕ → ℕ → Agreement) (c : Change) → HearAlike d e
    → HearAlike (dialogue_after d before after a c) (dialogue_after e before after b c)
after_alike d e None None a b c h = opened_alike asynchronous asynchronous
after_alike d e (Some m) None a b c h = opened_alike asynchronous asynchronous
after_alike d e None (Some n) a b c h = opened_alike (a n.initiator n.target) (b n.initiator n.target)
after_alike d e (Some m) (Some n) a b c h = chosen (is_some (receiver_of (Some m) c))
    (byte_crosses d c) (byte_crosses e c) _ _ (byte_alike d e c h)
    (chosen (changes_phase c) (phase_begins d) (phase_begins e) d e (phase_alike d e) h)

-- ---- the bus

pub record IsAlike (w v : BusState) : Type 0 where
  pub driven : w.driven ≡ v.driven
  pub bus : w.bus ≡ v.bus
  pub call : w.call ≡ v.call
  pub connection : w.connection ≡ v.connection
  pub crossed : w.crossed ≡ v.crossed
  pub half : w.dialogue.half ≡ v.dialogue.half
  pub fresh : w.dialogue.fresh ≡ v.dialogue.fresh
  pub is_last : w.dialogue.is_last ≡ v.dialogue.is_last

heard : (w v : BusState) → IsAlike w v → HearAlike w.dialogue v.dialogue
heard w v h = record { half = h.half; fresh = h.fresh; is_last = h.is_last }

out_same : (d e : Dialogue) (c : Change) (q : Bool) → HearAlike d e → message_out d c q ≡ message_out e c q
out_same d e c true h = λ i.
    if is_message_out c.before then whole_out (got_out (fresh_same d e h i ++ c.after.data_bits % 256 ∷ [])) else None
out_same d e c false h = refl

in_same : (d e : Dialogue) (c : Change) (q : Bool) → HearAlike d e → message_in d c q ≡ message_in e c q
in_same d e c true h =
    λ i. if is_message_in c.before then whole_in (got_in (h.half i ++ c.after.data_bits % 256 ∷ [])) else None
in_same d e c false h = refl

-- What a row does is the same on both.
pub reading_same : (w v : BusState) (row : Row) → IsAlike w v → row_reading w row ≡ row_reading v row
reading_same w v row h =
    let c = change_same w v row (record { driven = h.driven; bus = h.bus }) in
    let e : Change = change_by v row in
    let q : Bool = is_some (receiver_of v.connection e) in
    (λ i. record {
      change = c i;
      next = connection_after (h.connection i) (h.call i) (c i) row;
      crosses = is_some (receiver_of (h.connection i) (c i));
      out = message_out w.dialogue (c i) (is_some (receiver_of (h.connection i) (c i)));
      into = message_in w.dialogue (c i) (is_some (receiver_of (h.connection i) (c i)));
    })
    ∙ (λ i. record {
      change = e;
      next = connection_after v.connection v.call e row;
      crosses = q;
      out = out_same w.dialogue v.dialogue e q (heard w v h) i;
      into = in_same w.dialogue v.dialogue e q (heard w v h) i;
    })

-- ---- after a row

next_alike : (w v u : BusState) (row : Row) (d : RowReading) (a b : ℕ → ℕ → Agreement)
    → IsAlike w v → u ≡ w → (x y : BusState) → x.driven ≡ slice_set u.driven row.dev d.change.next
    → x.bus ≡ d.change.after → x.call ≡ call_after u.call d.change row
    → x.connection ≡ d.next → x.crossed ≡ (if d.crosses then Some d.change else None)
    → x.dialogue ≡ dialogue_after u.dialogue u.connection d.next a d.change
    → y.driven ≡ slice_set v.driven row.dev d.change.next → y.bus ≡ d.change.after
    → y.call ≡ call_after v.call d.change row → y.connection ≡ d.next
    → y.crossed ≡ (if d.crosses then Some d.change else None)
    → y.dialogue ≡ dialogue_after v.dialogue v.connection d.next b d.change → IsAlike x y
next_alike w v u row d a b h same x y xd xb xc xn xr xl yd yb yc yn yr yl =
    let g = after_alike w.dialogue v.dialogue v.connection d.next a b d.change (heard w v h) in
    let l : x.dialogue ≡ dialogue_after w.dialogue v.connection d.next a d.change = xl
    ∙ (λ i. dialogue_after (same i).dialogue (same i).connection d.next a d.change)
    ∙ (λ i. dialogue_after w.dialogue (h.connection i) d.next a d.change) in
    record {
      driven = xd ∙ (λ i. slice_set (same i).driven row.dev d.change.next)
          ∙ (λ i. slice_set (h.driven i) row.dev d.change.next) ∙ sym yd;
      bus = xb ∙ sym yb;
      call = xc ∙ (λ i. call_after (same i).call d.change row) ∙ (λ i. call_after (h.call i) d.change row) ∙ sym yc;
      connection = xn ∙ sym yn;
      crossed = xr ∙ sym yr;
      half = ap (λ (z : Dialogue). z.half) l ∙ g.half ∙ sym (ap (λ (z : Dialogue). z.half) yl);
      fresh = ap (λ (z : Dialogue). z.fresh) l ∙ g.fresh ∙ sym (ap (λ (z : Dialogue). z.fresh) yl);
      is_last = ap (λ (z : Dialogue). z.is_last) l ∙ g.is_last ∙ sym (ap (λ (z : Dialogue). z.is_last) yl);
    }

pub buses_alike : (s : ScenarioValue) (rows : List Row) → IsAlike (transcribed rows).bus_state (story s rows).bus_state
buses_alike s [] = record {
  driven = refl;
  bus = refl;
  call = refl;
  connection = refl;
  crossed = refl;
  half = refl;
  fresh = refl;
  is_last = refl;
}
buses_alike s (row ∷ rows) =
    let t : TranscriberValue = transcribed rows in
    let b : Story = story s rows in
    let h = buses_alike s rows in
    let d = reading_same t.bus_state b.bus_state row h in
    let w : BusState = t.bus_state in
    let e : RowReading = row_reading b.bus_state row in
    let u : BusState = (by_change t (row_reading w row) row).bus_state in
    next_alike w b.bus_state u row e (λ x y. agreement_in u.agreed x y) (λ x y. agreement_in b.bus_state.agreed x y) h
    (row_bus t (row_reading w row) row) (transcribed (row ∷ rows)).bus_state (story s (row ∷ rows)).bus_state
    (λ i. slice_set u.driven row.dev (d i).change.next) (λ i. (d i).change.after)
    (λ i. call_after u.call (d i).change row) (λ i. (d i).next) (λ i. if (d i).crosses then Some (d i).change else None)
    (λ i. dialogue_after u.dialogue u.connection (d i).next (λ x y. agreement_in u.agreed x y) (d i).change) refl refl
    refl refl refl refl
