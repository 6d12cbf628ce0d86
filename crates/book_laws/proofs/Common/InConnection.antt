-- A row in a connection that stands before and after it: what it makes of what is kept.
use Rattle.book_laws.proofs
use proofs.Names.{◌≡◌, Bool, true, false, not, ◌&&◌, ◌∙◌, Some, None, refl, sym, ap, true≢false, not-false, and_parts}
use proofs.Names.{if◌then◌else◌, is_some, same_phase, LineSet, same, changes_phase, is_fault, connection_after}
use proofs.Names.{receiver_in, receiver_of, Row, Change, Connection, handshakes_after, dialogue_after, byte_crosses}
use proofs.Names.{phase_begins, Dialogue, ScenarioValue, row_reading, message_out, message_in, agreement_in, still_talk}
use proofs.Names.{host_of, RunState, run_state_after, exchange_after, served_after, leaving_of, hearing_of, leaving}
use proofs.Names.{IsRowIn, reading_in}

pub reading_is : (k : RunState) (row : Row) (n : Connection) (c : Change) (q : Bool) → IsRowIn k row n c
    → is_some (receiver_in n c) ≡ q → row_reading k.story.bus_state row ≡ reading_in k.story.bus_state n c q
reading_is k row n c q h e =
    let w = k.story.bus_state in
    let next : (row_reading w row).next ≡ Some n =
    (λ i. connection_after (h.connection_is i) w.call (h.change_is i) row)
    ∙ ap (λ (r : Bool). if r then Some n else None) h.stands in
    let now : (row_reading w row).crosses ≡ q = (λ i. is_some (receiver_of (h.connection_is i) (h.change_is i))) ∙ e in
    λ i. record {
      change = h.change_is i;
      next = next i;
      crosses = now i;
      out = message_out w.dialogue (h.change_is i) (now i);
      into = message_in w.dialogue (h.change_is i) (now i);
    }

abbrev pub dialogue_by : Bool → Bool → Change → Dialogue → Dialogue
dialogue_by phase now c d = if now then byte_crosses d c else if phase then phase_begins d else d

pub record InConnection (s : ScenarioValue) (k : RunState) (row : Row) (n : Connection) (c : Change)
    (phase now fault : Bool) : Type 0 where
  pub exchange_is : (run_state_after s k row).exchange
      ≡ still_talk phase now fault (host_of s n.initiator) (hearing_of k row (reading_in k.story.bus_state n c now))
      (leaving s k n.target) k.exchange
  pub dialogue_is : (run_state_after s k row).story.bus_state.dialogue
      ≡ dialogue_by phase now c k.story.bus_state.dialogue
  pub served_is : (run_state_after s k row).served ≡ k.served
  pub bus_is : (run_state_after s k row).story.bus_state.bus ≡ c.after
  pub connection_is : (run_state_after s k row).story.bus_state.connection ≡ Some n
  pub handshakes_is : (run_state_after s k row).handshakes
      ≡ handshakes_after (is_fault row.kind) (Some n) c row.time k.handshakes

pub in_connection :
    (s : ScenarioValue) (k : RunState) (row : Row) (n : Connection) (c : Change) (phase now fault : Bool)
    → IsRowIn k row n c → changes_phase c ≡ phase → is_some (receiver_in n c) ≡ now → is_fault row.kind ≡ fault
    → InConnection s k row n c phase now fault
in_connection s k row n c phase now fault h ep en ef =
    let w = k.story.bus_state in
    let d : row_reading w row ≡ reading_in w n c now = reading_is k row n c now h en in
    record {
      exchange_is =
          (λ i. exchange_after s k row (d i) (h.connection_is i) (d i).next (leaving_of s k (h.connection_is i)))
          ∙ (λ i. still_talk (ep i) now (ef i) (host_of s n.initiator) (hearing_of k row (reading_in w n c now))
          (leaving s k n.target) k.exchange);
      dialogue_is = (λ i. dialogue_after w.dialogue (h.connection_is i) (d i).next (λ j u. agreement_in w.agreed j u)
          (d i).change) ∙ (λ i. dialogue_by (ep i) (en i) c w.dialogue);
      served_is = λ i. served_after s k (h.connection_is i) (d i).next;
      bus_is = λ i. (d i).change.after;
      connection_is = λ i. (d i).next;
      handshakes_is = λ i. handshakes_after (is_fault row.kind) (d i).next (d i).change row.time k.handshakes;
    }

-- The phase lines stay.
same_lines : (a b : Bool) → same a b ≡ true → b ≡ a
same_lines true b e = e
same_lines false true e = absurd (true≢false (sym e))
same_lines false false e = refl

pub record SamePhase (a b : LineSet) : Type 0 where
  pub msg : b.msg ≡ a.msg
  pub cd : b.cd ≡ a.cd
  pub io : b.io ≡ a.io

pub same_phase_is : (c : Change) → changes_phase c ≡ false → SamePhase c.before c.after
same_phase_is c e =
    let all = not-false (same_phase c.before c.after) e in
    let two = and_parts (same c.before.msg c.after.msg && same c.before.cd c.after.cd)
    (same c.before.io c.after.io) all in
    let one = and_parts (same c.before.msg c.after.msg) (same c.before.cd c.after.cd) two.0 in
    record {
      msg = same_lines c.before.msg c.after.msg one.0;
      cd = same_lines c.before.cd c.after.cd one.1;
      io = same_lines c.before.io c.after.io two.1;
    }
