-- The running terms, one row more.
use Rattle.std.proofs.Common.{ℕ, ◌≡◌, List, [], ◌∷◌, Bool, Option, None, false, refl, ap, ◌∙◌}
use Rattle.std.specs.Prelude.{if◌then◌else◌}
use Rattle.bus_trace.specs.Trace.{since_line}
use Rattle.bus_trace.specs.declared.Row.{Row}
use Rattle.bus_trace.specs.declared.agreements.Agreement.{Agreement}
use Rattle.bus_trace.specs.declared.changes.Change.{Change}
use Rattle.bus_phases.specs.declared.raises.Raises.{Raises}
use Rattle.bus_trace.specs.declared.arbitration.Arbitration.{Arbitration}
use Rattle.bus_trace.specs.declared.selection.Call.{Call}
use Rattle.bus_trace.specs.declared.connection.Connection.{Connection}
use Rattle.bus_phases.specs.declared.pulses.Pulses.{Pulses}
use Rattle.bus_phases.specs.declared.attention.Duty.{Duty}
use Rattle.bus_phases.specs.declared.attention.Duty.TheVariants.{Nothing}
use Rattle.bus_phases.specs.declared.agreements.Agreements.{Agreements}
use Rattle.bus_phases.specs.declared.dialogue.Dialogue.{Dialogue}
use Rattle.bus_rules.specs.declared.course.Course.{Course}
use Rattle.bus_trace.specs.Changes.{change_of}
use Rattle.bus_trace.specs.Terms.{free_since, connection, arbitration_after, call_after, connection_after, receiver_of}
use Rattle.bus_phases.specs.Phases.{no_pulses, pulses_after, turned_after, is_attention_held, duty_after}
use Rattle.bus_phases.specs.Dialogue.{asynchronous, opened, closed_agreement_by, dialogue_after, agreed}
use Rattle.bus_phases.specs.Tables.{IsRaisesOf, AreAgreements}
use Rattle.bus_rules.specs.Judging.{IsCourseOf}
use Rattle.bus_phases.proofs.Agreeing.{agreeing}

-- no row yet
pub at_start : (b r : Raises) (p : Pulses) (a : Agreements) (s : Agreement) (d : Dialogue)
    → IsRaisesOf (λ s. s.bsy) [] b → IsRaisesOf (λ s. s.rst) [] r → p ≡ no_pulses
    → AreAgreements (λ i t. asynchronous) a → d ≡ opened s → s ≡ asynchronous → IsCourseOf [] (record {
      bsy_raised = b;
      rst_raised = r;
      arbitration = None;
      call = None;
      connection = None;
      receiver = None;
      pulses = p;
      turned = false;
      duty = Nothing;
      agreed = a;
      dialogue = d;
    })
at_start b r p a s d hb hr hp ha hd hs = record {
  bsy_raised = hb;
  rst_raised = hr;
  arbitration = refl;
  call = refl;
  connection = refl;
  receiver = refl;
  pulses = hp;
  turned = refl;
  duty = refl;
  agreed = ha;
  dialogue = hd ∙ ap opened hs;
}

pub goes_on : (rows : List Row) (row : Row) (k : Course) (free : ℕ) (held : Bool) (c : Change) (b r : Raises)
    (a : Option Arbitration) (l : Option Call) (n : Option Connection) (v : Option ℕ) (p : Pulses)
    (t : Bool) (u : Duty) (g : Agreements) (d : Dialogue) → IsCourseOf rows k → free ≡ free_since rows
    → c ≡ change_of rows row → held ≡ is_attention_held (change_of rows row) (since_line (λ s. s.atn) rows) row.time
    → IsRaisesOf (λ s. s.bsy) (row ∷ rows) b → IsRaisesOf (λ s. s.rst) (row ∷ rows) r
    → a ≡ arbitration_after k.arbitration free c row → l ≡ call_after k.call c row
    → n ≡ connection_after k.connection k.call c row → v ≡ receiver_of k.connection c
    → p ≡ pulses_after k.pulses n c row.time → t ≡ turned_after k.turned k.connection c → u ≡ duty_after k.duty n c held
    → AreAgreements (λ i t. if c.after.rst then asynchronous
    else closed_agreement_by k.connection c.after.bsy k.dialogue.heard.now i t (agreed rows i t)) g
    → d ≡ dialogue_after k.dialogue k.connection n (agreed rows) c → IsCourseOf (row ∷ rows) (record {
      bsy_raised = b;
      rst_raised = r;
      arbitration = a;
      call = l;
      connection = n;
      receiver = v;
      pulses = p;
      turned = t;
      duty = u;
      agreed = g;
      dialogue = d;
    })
goes_on rows row k free held c b r a l n v p t u g d h ef ec eh hb hr ea el en ev ep et eu hg ed =
    let conn : n ≡ connection (row ∷ rows) = en ∙ (λ i. connection_after (h.connection i) (h.call i) (ec i) row) in
    record {
      bsy_raised = hb;
      rst_raised = hr;
      arbitration = ea ∙ (λ i. arbitration_after (h.arbitration i) (ef i) (ec i) row);
      call = el ∙ (λ i. call_after (h.call i) (ec i) row);
      connection = conn;
      receiver = ev ∙ (λ i. receiver_of (h.connection i) (ec i));
      pulses = ep ∙ (λ i. pulses_after (h.pulses i) (conn i) (ec i) row.time);
      turned = et ∙ (λ i. turned_after (h.turned i) (h.connection i) (ec i));
      duty = eu ∙ (λ i. duty_after (h.duty i) (conn i) (ec i) (eh i));
      agreed = agreeing (λ i t. if c.after.rst then asynchronous
          else closed_agreement_by k.connection c.after.bsy k.dialogue.heard.now i t (agreed rows i t))
          (agreed (row ∷ rows)) g (λ i t. λ j. if (ec j).after.rst then asynchronous
          else closed_agreement_by (h.connection j) (ec j).after.bsy (h.dialogue j).heard.now i t (agreed rows i t)) hg;
      dialogue = ed ∙ (λ i. dialogue_after (h.dialogue i) (h.connection i) (conn i) (agreed rows) (ec i));
    }
