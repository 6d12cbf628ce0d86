-- What a row meets, by the running terms.
use Rattle.std.proofs.Common.{◌≡◌, ℕ, List, ◌∷◌, Bool, Option, ap, ◌∙◌}
use Rattle.std.specs.Prelude.{not, is_some}
use Rattle.bus_trace.specs.LineSet.{LineSet, data_of}
use Rattle.bus_trace.specs.declared.line_times.LineTimes.{LineTimes}
use Rattle.bus_trace.specs.Trace.{last_time, since, since_line, line_times, free_time, bus, drives, driven_after}
use Rattle.bus_trace.specs.declared.Row.{Row}
use Rattle.bus_trace.specs.declared.changes.Change.{Change}
use Rattle.bus_trace.specs.declared.connection.Connection.{Connection}
use Rattle.bus_trace.specs.declared.agreements.Agreement.{Agreement}
use Rattle.bus_trace.specs.declared.arbitration.Arbitration.{Arbitration}
use Rattle.bus_rules.specs.declared.course.Course.{Course}
use Rattle.bus_phases.specs.declared.attention.Duty.{Duty}
use Rattle.bus_phases.specs.declared.dialogue.Dialogue.{Dialogue}
use Rattle.bus_phases.specs.declared.pulses.Pulses.{Pulses}
use Rattle.bus_phases.specs.declared.spoken.CommandBytes.{CommandBytes}
use Rattle.bus_phases.specs.declared.reading.Reading.{Reading}
use Rattle.bus_rules.specs.declared.seen.Seen.{Seen}
use Rattle.bus_trace.specs.declared.selection.Call.{Call}
use Rattle.bus_trace.specs.Changes.{change_of}
use Rattle.bus_trace.specs.Terms.{raised, connection, free_since}
use Rattle.bus_phases.specs.Phases.{is_attention_held}
use Rattle.bus_phases.specs.Dialogue.{dialogue}
use Rattle.bus_phases.specs.Half.{is_nil}
use Rattle.bus_phases.specs.Reading.{reading_of}
use Rattle.bus_rules.specs.Seen.{seen, seen_with, others_in_call, id_since, initiator_of, drives_bsy, initiator_data}
use Rattle.bus_rules.specs.Seen.{target_data}
use Rattle.bus_rules.specs.Judging.{IsCourseOf}

-- what a row meets, by the terms
pub met_is : (rows : List Row) (dev : ℕ) (c : Change) (reading : Reading) (k : Course) → IsCourseOf rows k
    → (last : ℕ) (times : LineTimes) (id b r lines : ℕ) (others initiator i_data t_data : Bool)
    (l m o : Option Call) (v : Option ℕ) (a : Option Arbitration) (n : Option Connection)
    → (p : Pulses) (turned : Bool) (u : Duty) (g : Agreement) (unsettled : Bool) (bytes : CommandBytes)
    (half begun : Bool) → last ≡ last_time rows → times ≡ line_times rows → l ≡ k.call → id ≡ id_since rows l
    → b ≡ raised (λ s. s.bsy) rows dev → r ≡ raised (λ s. s.rst) rows dev → lines ≡ since data_of rows → m ≡ k.call
    → others ≡ others_in_call (drives rows) m → initiator ≡ drives_bsy (drives rows) (initiator_of k.call k.connection)
    → i_data ≡ initiator_data (drives rows) k.connection → t_data ≡ target_data (drives rows) k.connection
    → v ≡ k.receiver → a ≡ k.arbitration → o ≡ k.call → n ≡ k.connection → p ≡ k.pulses → turned ≡ k.turned
    → u ≡ k.duty → g ≡ k.dialogue.heard.now.agreement → unsettled ≡ is_some k.dialogue.heard.now.offer
    → bytes ≡ k.dialogue.heard.now.command → half ≡ not (is_nil k.dialogue.half) → begun ≡ k.dialogue.begun → record {
      change = c;
      last = last;
      times = times;
      id_since = id;
      bsy_raised = b;
      rst_raised = r;
      others_drive = others;
      initiator_bsy = initiator;
      initiator_data = i_data;
      target_data = t_data;
      receiver = v;
      arbitration = a;
      call = o;
      connection = n;
      data_since = lines;
      pulses = p;
      turned = turned;
      duty = u;
      agreement = g;
      is_open = unsettled;
      command = bytes;
      is_half = half;
      begun = begun;
      reading = reading;
    } ≡ seen_with rows dev c reading
unfolding seen_with
met_is rows dev c reading k h last times id b r lines others initiator i_data t_data l m o v a n p turned u g unsettled
    bytes half begun e_last e_times e_l e_id e_b e_r e_lines e_m e_others e_initiator e_i e_t e_v e_a e_o e_n e_p
    e_turned e_u e_g e_open e_bytes e_half e_begun = λ i. record {
      change = c;
      last = e_last i;
      times = e_times i;
      id_since = (e_id ∙ ap (λ (x : Option Call). id_since rows x) (e_l ∙ h.call)) i;
      bsy_raised = e_b i;
      rst_raised = e_r i;
      others_drive = (e_others ∙ ap (λ (x : Option Call). others_in_call (drives rows) x) (e_m ∙ h.call)) i;
      initiator_bsy = (e_initiator ∙ (λ j. drives_bsy (drives rows) (initiator_of (h.call j) (h.connection j)))) i;
      initiator_data = (e_i ∙ ap (λ (x : Option Connection). initiator_data (drives rows) x) h.connection) i;
      target_data = (e_t ∙ ap (λ (x : Option Connection). target_data (drives rows) x) h.connection) i;
      receiver = (e_v ∙ h.receiver) i;
      arbitration = (e_a ∙ h.arbitration) i;
      call = (e_o ∙ h.call) i;
      connection = (e_n ∙ h.connection) i;
      data_since = e_lines i;
      pulses = (e_p ∙ h.pulses) i;
      turned = (e_turned ∙ h.turned) i;
      duty = (e_u ∙ h.duty) i;
      agreement = (e_g ∙ ap (λ (d : Dialogue). d.heard.now.agreement) h.dialogue) i;
      is_open = (e_open ∙ ap (λ (d : Dialogue). is_some d.heard.now.offer) h.dialogue) i;
      command = (e_bytes ∙ ap (λ (d : Dialogue). d.heard.now.command) h.dialogue) i;
      is_half = (e_half ∙ ap (λ (d : Dialogue). not (is_nil d.half)) h.dialogue) i;
      begun = (e_begun ∙ ap (λ (d : Dialogue). d.begun) h.dialogue) i;
      reading = reading;
    }

-- what a row changes, by what is seen of it
pub change_is : (rows : List Row) (row : Row) (before after own next : LineSet) → before ≡ bus rows
    → after ≡ bus (row ∷ rows) → own ≡ drives rows row.dev → next ≡ driven_after row.kind own
    → record { before = before; after = after; own = own; next = next } ≡ change_of rows row
change_is rows row before after own next eb ea eo en =
    let e : next ≡ driven_after row.kind (drives rows row.dev) = en
    ∙ ap (λ (s : LineSet). driven_after row.kind s) eo in
    λ i. record { before = eb i; after = ea i; own = eo i; next = e i }

-- what was met, with the change of the row and its byte
pub seen_is : (rows : List Row) (row : Row) (met : Seen) (q c : Change) (none reading : Reading) (k : Course)
    → IsCourseOf rows k → met ≡ seen_with rows row.dev q none → c ≡ change_of rows row
    → reading ≡ reading_of k.dialogue.half k.connection c → record met { change = c; reading = reading } ≡ seen rows row
unfolding seen_with
seen_is rows row met q c none reading k h em ec er =
    let read : reading ≡ reading_of (dialogue rows).half (connection rows) (change_of rows row) = er
    ∙ (λ i. reading_of (h.dialogue i).half (h.connection i) (ec i)) in
    λ i. record (em i) { change = ec i; reading = read i }

-- the same of what was met with the change of the row
pub seen_by : (rows : List Row) (row : Row) (met : Seen) (c : Change) (none reading : Reading) (k : Course)
    → IsCourseOf rows k → met ≡ seen_with rows row.dev c none → c ≡ change_of rows row
    → reading ≡ reading_of k.dialogue.half k.connection c → record met { reading = reading } ≡ seen rows row
unfolding seen_with
seen_by rows row met c none reading k h em ec er =
    let read : reading ≡ reading_of (dialogue rows).half (connection rows) (change_of rows row) = er
    ∙ (λ i. reading_of (h.dialogue i).half (h.connection i) (ec i)) in
    let now : met ≡ seen_with rows row.dev (change_of rows row) none = em ∙ (λ i. seen_with rows row.dev (ec i) none) in
    λ i. record (now i) { reading = read i }

-- two of its parts
pub free_of : (rows : List Row) (dev : ℕ) (met : Seen) (q : Change) (none : Reading) → met ≡ seen_with rows dev q none
    → free_time met.times ≡ free_since rows
unfolding seen_with
free_of rows dev met q none em = ap (λ (s : Seen). (free_time s.times)) em

pub held_of : (rows : List Row) (row : Row) (met : Seen) (q c : Change) (none : Reading) (held : Bool)
    → met ≡ seen_with rows row.dev q none → c ≡ change_of rows row → held ≡ is_attention_held c met.times.atn row.time
    → held ≡ is_attention_held (change_of rows row) (since_line (λ s. s.atn) rows) row.time
unfolding seen_with
held_of rows row met q c none held em ec eh = eh ∙ (λ i. is_attention_held (ec i) (em i).times.atn row.time)

pub held_by : (rows : List Row) (row : Row) (c : Change) (since : ℕ) (held : Bool) → c ≡ change_of rows row
    → since ≡ since_line (λ s. s.atn) rows → held ≡ is_attention_held c since row.time
    → held ≡ is_attention_held (change_of rows row) (since_line (λ s. s.atn) rows) row.time
held_by rows row c since held ec es eh = eh ∙ (λ i. is_attention_held (ec i) (es i) row.time)
