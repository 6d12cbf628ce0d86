-- What the rules see of a row in a connection, and which of them it obeys by the wires.
use Rattle.link_laws.proofs
use proofs.Names.{ℕ, ◌≡◌, Bool, true, false, not, ◌&&◌, List, [], ◌∷◌, ◌∙◌, refl, sym, ap, Option, Some, None, is_some}
use proofs.Names.{if◌then◌else◌, change_of, drives_data, LineSet, data_of, raised, receiver, drives, last_time, since}
use proofs.Names.{line_times, Row, Agreement, Change, Connection, LineTimes, dialogue, is_nil, pulses, turned, duty}
use proofs.Names.{reading_of, Duty, Pulses, Reading, CommandBytes, none_broken, all_kept, keeps_messages, keeps_command}
use proofs.Names.{keeps, first_broken, judged_rules, lowest_broken, broken_rule, seen, seen_with, others_in_call}
use proofs.Names.{id_since, drives_bsy, initiator_of, initiator_data, target_data, has_parity, Seen, EndLines}
use proofs.Names.{initiator_side, target_side, Linked, is_row_of_connection, KeepsBooksIn}

-- What a row of a connection meets, but for what it changes and what the ends drive.
pub record Around : Type 0 where
  pub last : ℕ
  pub times : LineTimes
  pub data_since : ℕ
  pub bsy_raised : ℕ
  pub rst_raised : ℕ
  pub receiver : Option ℕ
  pub pulses : Pulses
  pub turned : Bool
  pub duty : Duty
  pub agreement : Agreement
  pub is_open : Bool
  pub command : CommandBytes
  pub is_half : Bool
  pub begun : Bool
  pub reading : Reading

abbrev pub around : List Row → ℕ → Connection → Change → Around
around p dev n c = record {
  last = last_time p;
  times = line_times p;
  data_since = since data_of p;
  bsy_raised = raised (λ s. s.bsy) p dev;
  rst_raised = raised (λ s. s.rst) p dev;
  receiver = receiver p;
  pulses = pulses p;
  turned = turned p;
  duty = duty p;
  agreement = (dialogue p).heard.now.agreement;
  is_open = is_some (dialogue p).heard.now.offer;
  command = (dialogue p).heard.now.command;
  is_half = not (is_nil (dialogue p).half);
  begun = (dialogue p).begun;
  reading = reading_of (dialogue p).half (Some n) c;
}

abbrev pub seen_linked : Around → Change → Connection → EndLines → Seen
seen_linked v c n e = record {
  change = c;
  last = v.last;
  times = v.times;
  id_since = 0;
  bsy_raised = v.bsy_raised;
  rst_raised = v.rst_raised;
  others_drive = false;
  initiator_bsy = e.bsy;
  initiator_data = drives_data (initiator_side e);
  target_data = drives_data (target_side e);
  receiver = v.receiver;
  arbitration = None;
  call = None;
  connection = Some n;
  data_since = v.data_since;
  pulses = v.pulses;
  turned = v.turned;
  duty = v.duty;
  agreement = v.agreement;
  is_open = v.is_open;
  command = v.command;
  is_half = v.is_half;
  begun = v.begun;
  reading = v.reading;
}

pub linked_is : (p : List Row) (row : Row) (n : Connection) (e : EndLines) (c : Change) → Linked p n e
    → change_of p row ≡ c → seen p row ≡ seen_linked (around p row.dev n c) c n e
unfolding seen_with
linked_is p row n e c h ec =
    λ i. record {
      change = ec i;
      last = last_time p;
      times = line_times p;
      id_since = id_since p (h.stands.call_is i);
      bsy_raised = raised (λ s. s.bsy) p row.dev;
      rst_raised = raised (λ s. s.rst) p row.dev;
      others_drive = others_in_call (drives p) (h.stands.call_is i);
      initiator_bsy = ((λ j. drives_bsy (drives p) (initiator_of (h.stands.call_is j) (h.stands.connection_is j)))
          ∙ ap (λ (z : LineSet). z.bsy) h.initiator) i;
      initiator_data = ((λ j. initiator_data (drives p) (h.stands.connection_is j))
          ∙ ap (λ (z : LineSet). drives_data z) h.initiator) i;
      target_data =
          ((λ j. target_data (drives p) (h.stands.connection_is j)) ∙ ap (λ (z : LineSet). drives_data z) h.target) i;
      receiver = receiver p;
      arbitration = h.stands.arbitration_is i;
      call = h.stands.call_is i;
      connection = h.stands.connection_is i;
      data_since = since data_of p;
      pulses = pulses p;
      turned = turned p;
      duty = duty p;
      agreement = (dialogue p).heard.now.agreement;
      is_open = is_some (dialogue p).heard.now.offer;
      command = (dialogue p).heard.now.command;
      is_half = not (is_nil (dialogue p).half);
      begun = (dialogue p).begun;
      reading = reading_of (dialogue p).half (h.stands.connection_is i) (ec i);
    }

-- ---- the rules that a row obeys by the wires, and those that it obeys by what is said

abbrev pub wire_rules : List ℕ
wire_rules = 1 ∷ 2 ∷ 3 ∷ 4 ∷ 5 ∷ 6 ∷ 7 ∷ 8 ∷ 9 ∷ 10 ∷ 11 ∷ 12 ∷ 13 ∷ 14 ∷ 15 ∷ 16 ∷ 18 ∷ 19 ∷ 20 ∷ 21 ∷ 22 ∷ 23 ∷ 24
    ∷ 27 ∷ 28 ∷ []

abbrev pub wire_broken : Seen → Row → Option ℕ
wire_broken v row = first_broken (λ n. keeps n v row) wire_rules

with_books : (v : Seen) (row : Row) → wire_broken v row ≡ None → keeps 17 v row ≡ true → keeps 25 v row ≡ true
    → keeps 26 v row ≡ true → lowest_broken v row ≡ None
with_books v row w h17 h25 h26 =
    let a = all_kept (λ n. keeps n v row) wire_rules w in
    none_broken (λ n. keeps n v row) judged_rules (
      a.0,
      (
        a.1.0,
        (
          a.1.1.0,
          (
            a.1.1.1.0,
            (
              a.1.1.1.1.0,
              (
                a.1.1.1.1.1.0,
                (
                  a.1.1.1.1.1.1.0,
                  (
                    a.1.1.1.1.1.1.1.0,
                    (
                      a.1.1.1.1.1.1.1.1.0,
                      (
                        a.1.1.1.1.1.1.1.1.1.0,
                        (
                          a.1.1.1.1.1.1.1.1.1.1.0,
                          (
                            a.1.1.1.1.1.1.1.1.1.1.1.0,
                            (
                              a.1.1.1.1.1.1.1.1.1.1.1.1.0,
                              (
                                a.1.1.1.1.1.1.1.1.1.1.1.1.1.0,
                                (
                                  a.1.1.1.1.1.1.1.1.1.1.1.1.1.1.0,
                                  (
                                    a.1.1.1.1.1.1.1.1.1.1.1.1.1.1.1.0,
                                    (
                                      h17,
                                      (
                                        a.1.1.1.1.1.1.1.1.1.1.1.1.1.1.1.1.0,
                                        (
                                          a.1.1.1.1.1.1.1.1.1.1.1.1.1.1.1.1.1.0,
                                          (
                                            a.1.1.1.1.1.1.1.1.1.1.1.1.1.1.1.1.1.1.0,
                                            (
                                              a.1.1.1.1.1.1.1.1.1.1.1.1.1.1.1.1.1.1.1.0,
                                              (
                                                a.1.1.1.1.1.1.1.1.1.1.1.1.1.1.1.1.1.1.1.1.0,
                                                (
                                                  a.1.1.1.1.1.1.1.1.1.1.1.1.1.1.1.1.1.1.1.1.1.0,
                                                  (
                                                    a.1.1.1.1.1.1.1.1.1.1.1.1.1.1.1.1.1.1.1.1.1.1.0,
                                                    (
                                                      h25,
                                                      (
                                                        h26,
                                                        (
                                                          a.1.1.1.1.1.1.1.1.1.1.1.1.1.1.1.1.1.1.1.1.1.1.1.0,
                                                          (a.1.1.1.1.1.1.1.1.1.1.1.1.1.1.1.1.1.1.1.1.1.1.1.1.0, tt),
                                                        ),
                                                      ),
                                                    ),
                                                  ),
                                                ),
                                              ),
                                            ),
                                          ),
                                        ),
                                      ),
                                    ),
                                  ),
                                ),
                              ),
                            ),
                          ),
                        ),
                      ),
                    ),
                  ),
                ),
              ),
            ),
          ),
        ),
      ),
    )

kept_if : (m : ℕ) (q : Bool) (x : Bool) → x ≡ true → (if q then true else x) ≡ true
kept_if m true x e = refl
kept_if m false x e = e

pub obeys_linked : (p : List Row) (row : Row) (n : Connection) (e : EndLines) (c : Change)
    → Linked p n e → change_of p row ≡ c → c.after.rst ≡ false → KeepsBooksIn p row
    → wire_broken (seen_linked (around p row.dev n c) c n e) row ≡ None → broken_rule p row ≡ None
obeys_linked p row n e c h ec calm books z =
    let same = linked_is p row n e c h ec in
    let v : Seen = seen_linked (around p row.dev n c) c n e in
    let now : is_row_of_connection p row ≡ true = λ i. is_some (h.stands.connection_is i)
    && not (h.stands.bus_is i).rst && not ((ap (λ (w : Change). w.after.rst) ec ∙ calm) i) in
    let k = books now in
    ap (λ (w : Seen). lowest_broken w row) same ∙ with_books v row z
    (kept_if 17 _ _ (ap has_parity (sym same) ∙ k.byte)) (kept_if 25 _ _ (ap keeps_messages (sym same) ∙ k.messages))
    (kept_if 26 _ _ (ap keeps_command (sym same) ∙ k.command))
