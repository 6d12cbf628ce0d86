-- What the rules see of a row of lines where no connection stands.
use Rattle.bus_laws.proofs
use proofs.Names.{ap, ℕ, ◌≡◌, Bool, false, not, List, [], ◌∷◌, ◌∙◌, refl, Option, None, is_some, change_of, LineSet}
use proofs.Names.{data_of, raised, call, connection, receiver, drives, bus, last_time, since, since_line, line_times}
use proofs.Names.{Row, Arbitration, Change, Call, dialogue, dialogue_after, agreed, opened, asynchronous, no_command}
use proofs.Names.{is_nil, pulses, pulses_after, no_pulses, turned, duty, duty_after, is_attention_held, reading_of}
use proofs.Names.{Duty, Reading, lowest_broken, broken_rule, seen, seen_with, others_in_call, id_since, drives_bsy}
use proofs.Names.{initiator_of, initiator_data, target_data, Seen, Stands, change_to, row_of_lines}
use proofs.Lines.Rows.{change_is}

-- what of it is of no rule here but for its times
-- without a connection nothing was said
pub dialogue_none : (p : List Row) → connection p ≡ None → dialogue p ≡ opened asynchronous
dialogue_none [] e = refl
dialogue_none (row ∷ rows) e =
    λ i. dialogue_after (dialogue rows) (connection rows) (e i) (agreed rows) (change_of rows row)

pub duty_none : (p : List Row) → connection p ≡ None → duty p ≡ Duty.Nothing
duty_none [] e = refl
duty_none (row ∷ rows) e = λ i. duty_after (duty rows) (e i) (change_of rows row)
    (is_attention_held (change_of rows row) (since_line (λ s. s.atn) rows) row.time)

pub pulses_none : (p : List Row) → connection p ≡ None → pulses p ≡ no_pulses
pulses_none [] e = refl
pulses_none (row ∷ rows) e = λ i. pulses_after (pulses rows) (e i) (change_of rows row) row.time

abbrev pub seen_apart : List Row → ℕ → Change → Option Arbitration → Option Call → Bool → Seen
seen_apart p dev c a o others = record {
  change = c;
  last = last_time p;
  times = line_times p;
  id_since = id_since p o;
  bsy_raised = raised (λ s. s.bsy) p dev;
  rst_raised = raised (λ s. s.rst) p dev;
  others_drive = others;
  initiator_bsy = drives_bsy (drives p) (initiator_of o None);
  initiator_data = false;
  target_data = false;
  receiver = receiver p;
  arbitration = a;
  call = o;
  connection = None;
  data_since = since data_of p;
  pulses = pulses p;
  turned = turned p;
  duty = duty p;
  agreement = asynchronous;
  is_open = false;
  command = no_command;
  is_half = false;
  begun = false;
  reading = Reading.NoMessage;
}

pub seen_by :
    (p : List Row) (row : Row) (g : Change) (b : LineSet) (a : Option Arbitration) (o : Option Call) (others : Bool)
    → Stands p b a o None → change_of p row ≡ g → others_in_call (drives p) o ≡ others
    → seen p row ≡ seen_apart p row.dev g a o others
unfolding seen_with
seen_by p row g b a o others h c eq =
    let q : others_in_call (drives p) (call p) ≡ others = (λ i. others_in_call (drives p) (h.call_is i)) ∙ eq in
    let di = dialogue_none p h.connection_is in
    λ i. record {
      change = c i;
      last = last_time p;
      times = line_times p;
      id_since = id_since p (h.call_is i);
      bsy_raised = raised (λ s. s.bsy) p row.dev;
      rst_raised = raised (λ s. s.rst) p row.dev;
      others_drive = q i;
      initiator_bsy = drives_bsy (drives p) (initiator_of (h.call_is i) (h.connection_is i));
      initiator_data = initiator_data (drives p) (h.connection_is i);
      target_data = target_data (drives p) (h.connection_is i);
      receiver = receiver p;
      arbitration = h.arbitration_is i;
      call = h.call_is i;
      connection = h.connection_is i;
      data_since = since data_of p;
      pulses = pulses p;
      turned = turned p;
      duty = duty p;
      agreement = (di i).heard.now.agreement;
      is_open = is_some (di i).heard.now.offer;
      command = (di i).heard.now.command;
      is_half = not (is_nil (di i).half);
      begun = (di i).begun;
      reading = reading_of (dialogue p).half (h.connection_is i) (c i);
    }

pub obeys_by :
    (p : List Row) (row : Row) (g : Change) (b : LineSet) (a : Option Arbitration) (o : Option Call) (others : Bool)
    → Stands p b a o None → change_of p row ≡ g → others_in_call (drives p) o ≡ others
    → lowest_broken (seen_apart p row.dev g a o others) row ≡ None → broken_rule p row ≡ None
obeys_by p row g b a o others h e eq z =
    ap (λ (v : Seen). lowest_broken v row) (seen_by p row g b a o others h e eq) ∙ z

pub obeys_apart :
    (p : List Row) (t d : ℕ) (l b b' o l' : LineSet) (a : Option Arbitration) (x : Option Call) (others : Bool)
    → Stands p b a x None → l ≡ l' → bus (row_of_lines t d l ∷ p) ≡ b'
    → drives p d ≡ o → others_in_call (drives p) x ≡ others
    → lowest_broken (seen_apart p d (change_to b b' o l') a x others) (row_of_lines t d l') ≡ None
    → broken_rule p (row_of_lines t d l) ≡ None
obeys_apart p t d l b b' o l' a x others h el ea eo eq z = obeys_by p (row_of_lines t d l)
    (change_to b b' o l') b a x others h (change_is p t d l l' b b' o el h.bus_is ea eo) eq
    ((λ i. lowest_broken (seen_apart p d (change_to b b' o l') a x others) (row_of_lines t d (el i))) ∙ z)
