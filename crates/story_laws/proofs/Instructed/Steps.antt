-- What the target of a connection has been told in it, after a row with which no phase is left.
use Rattle.story_laws.proofs
use proofs.Names.{ℕ, ◌≡◌, Bool, true, false, not, ◌&&◌, ◌||◌, ◌%◌, ◌∙◌, List, [], ◌∷◌, ◌++◌, Some, refl, sym, ap, subst}
use proofs.Names.{if◌then◌else◌, is_some, wrong, wrong', ProcId, changes_phase, is_command, is_message_out, receiver_in}
use proofs.Names.{Row, Change, Connection, ScenarioValue, phase_of, Cause, Hearing, Next, Phase, Plan, RunState, bus_of}
use proofs.Names.{carried_here, run_state, hearing_of, Instructions, block_after, instructions, instructions_after}
use proofs.Names.{instructions_on, instructions_with, is_opening, is_opening_in, is_selected, reading_is, IsRowIn}
use proofs.{Names.{reading_in, Serves, KnownFor, KnownIn, KnownNext, Selected, Instructed}, Commands.Turns.{serves_as}}

-- ---- a row of the connection

pub told_with : (s : ScenarioValue) (p : List Row) (row : Row) (n : Connection) (c : Change) (now : Bool)
    → IsRowIn (run_state s p) row n c → is_some (receiver_in n c) ≡ now → instructions s (row ∷ p)
    ≡ instructions_on (hearing_of (run_state s p) row (reading_in (run_state s p).story.bus_state n c now))
    (run_state s p).exchange.plan (instructions s p)
told_with s p row n c now r e =
    let k = run_state s p in
    let d = reading_is k row n c now r e in
    λ i. instructions_after (r.connection_is i) (d i).next (hearing_of k row (d i)) k.exchange.plan (instructions s p)

-- No phase is left, and no byte of COMMAND crosses.
pub told_none : (w : Hearing) (l : Plan) (i : Instructions) → changes_phase w.change ≡ false
    → (w.crosses && is_command w.change.before) ≡ false → instructions_on w l i ≡ i
told_none w l i ec ex = go i.known refl w.begun
  where
    go : (q : Bool) → i.known ≡ q → (b : Bool) → (if q then i else record {
      opening =
          if b && changes_phase w.change && is_message_out w.change.before && is_selected l.cause then Some l.said
          else i.opening;
      block = block_after w i.block;
      known = b && changes_phase w.change && is_command w.change.before && not l.struck;
    }) ≡ i
    go true e b = refl
    go false e false = (λ j. record {
      opening = i.opening;
      block =
          if ec j then (if is_command w.change.after then [] else i.block)
          else if ex j then i.block ++ w.change.after.data_bits % 256 ∷ [] else i.block;
      known = false;
    }) ∙ (λ j. record { opening = i.opening; block = i.block; known = sym e j })
    go false e true =
        (λ j. record {
          opening = if ec j && is_message_out w.change.before && is_selected l.cause then Some l.said else i.opening;
          block =
              if ec j then (if is_command w.change.after then [] else i.block)
              else if ex j then i.block ++ w.change.after.data_bits % 256 ∷ [] else i.block;
          known = ec j && is_command w.change.before && not l.struck;
        })
        ∙ (λ j. record { opening = i.opening; block = i.block; known = sym e j })

-- A byte of COMMAND crosses, which the target does not know yet.
abbrev pub with_byte : Instructions → ℕ → Instructions
with_byte i byte = record { opening = i.opening; block = i.block ++ byte ∷ []; known = false }

pub told_byte : (w : Hearing) (l : Plan) (i : Instructions) → changes_phase w.change ≡ false
    → w.crosses ≡ true → is_command w.change.before ≡ true → i.known ≡ false
    → instructions_on w l i ≡ with_byte i (w.change.after.data_bits % 256)
told_byte w l i ec ex em e = (λ j. if e j then i else instructions_with w l i) ∙ go w.begun
  where
    go : (b : Bool) → record {
      opening =
          if b && changes_phase w.change && is_message_out w.change.before && is_selected l.cause then Some l.said
          else i.opening;
      block = block_after w i.block;
      known = b && changes_phase w.change && is_command w.change.before && not l.struck;
    } ≡ with_byte i (w.change.after.data_bits % 256)
    go false = λ j. record {
      opening = i.opening;
      block =
          if ec j then (if is_command w.change.after then [] else i.block)
          else if ex j && em j then i.block ++ w.change.after.data_bits % 256 ∷ [] else i.block;
      known = false;
    }
    go true = λ j. record {
      opening = if ec j && is_message_out w.change.before && is_selected l.cause then Some l.said else i.opening;
      block =
          if ec j then (if is_command w.change.after then [] else i.block)
          else if ex j && em j then i.block ++ w.change.after.data_bits % 256 ∷ [] else i.block;
      known = ec j && is_command w.change.before && not l.struck;
    }

-- ---- what the target goes by stays

pub record SameStage (k j : RunState) : Type 0 where
  pub served_is : j.served ≡ k.served
  pub begun_is : j.exchange.begun ≡ k.exchange.begun
  pub phase_is : phase_of (bus_of j) ≡ phase_of (bus_of k)
  pub next_is : j.exchange.plan.next ≡ k.exchange.plan.next
  pub cause_is : j.exchange.plan.cause ≡ k.exchange.plan.cause

opening_same : (k j : RunState) → SameStage k j → is_opening j ≡ is_opening k
opening_same k j e = λ x. not (e.begun_is x) || is_opening_in (e.phase_is x) (e.cause_is x)

pub known_same : (known : Bool) (l q : Plan) (phase : Phase) → q.next ≡ l.next → q.cause ≡ l.cause
    → KnownIn known l phase → KnownIn known q phase
known_same known l q Phase.MessageIn en ec h = subst (λ (x : Next). KnownNext known x) (sym en) h
known_same known l q Phase.MessageOut en ec h =
    subst (λ (c : Cause). KnownFor known q.next c) (sym ec) (subst (λ (x : Next). KnownFor known x l.cause) (sym en) h)
known_same known l q Phase.Status en ec h = tt
known_same known l q _ en ec h = h

abbrev serves_before : (s : ScenarioValue) (k j : RunState) → j.served ≡ k.served → Serves s j → Serves s k
serves_before s k j e v = serves_as s j k (sym e) v

pub same_told : (s : ScenarioValue) (k j : RunState) (i : Instructions) (n : Connection) → SameStage k j
    → (phase_of (bus_of j) ≡ Phase.Command → (id : ProcId) → (carried_here j id).block ≡ (carried_here k id).block)
    → Instructed s k i n → Instructed s j i n
same_told s k j i n e blocks h = record {
  served = λ z. serves_as s k j e.served_is (h.served (sym (opening_same k j e) ∙ z));
  selected = λ z. of (h.selected z);
  again = λ z. let w = h.again z in (w.0, serves_as s k j e.served_is w.1);
}
  where
    of : Selected s k i → Selected s j i
    of w = record {
      unbegun = λ b. w.unbegun (sym e.begun_is ∙ b);
      stage = λ b. subst (λ (x : Phase). KnownIn i.known j.exchange.plan x) (sym e.phase_is) (known_same i.known
          k.exchange.plan j.exchange.plan (phase_of (bus_of k)) e.next_is e.cause_is (w.stage (sym e.begun_is ∙ b)));
      named = λ z v. w.named (sym (opening_same k j e) ∙ z) (serves_before s k j e.served_is v);
      carried = λ b p v. w.carried (sym e.begun_is ∙ b) (sym e.phase_is ∙ p) (serves_before s k j e.served_is v)
          ∙ sym (blocks p v.id);
      block = λ a v. w.block a (serves_before s k j e.served_is v);
    }

pub byte_told : (s : ScenarioValue) (k j : RunState) (i : Instructions) (n : Connection) (byte : ℕ)
    → SameStage k j → k.exchange.begun ≡ true → phase_of (bus_of k) ≡ Phase.Command → n.reselected ≡ false
    → ((v : Serves s k) → (carried_here j v.id).block ≡ (carried_here k v.id).block ++ byte ∷ []) → Instructed s k i n
    → Instructed s j (with_byte i byte) n
byte_told s k j i n byte e begun phase selected blocks h = record {
  served = λ z. serves_as s k j e.served_is (h.served (sym (opening_same k j e) ∙ z));
  selected = λ z. of (h.selected z);
  again = λ z. wrong (sym z ∙ selected);
}
  where
    of : Selected s k i → Selected s j (with_byte i byte)
    of w = record {
      unbegun = λ b. refl;
      stage = λ b. subst (λ (x : Phase). KnownIn false j.exchange.plan x) (sym (e.phase_is ∙ phase)) refl;
      named = λ z v. w.named (sym (opening_same k j e) ∙ z) (serves_before s k j e.served_is v);
      carried = λ b p v.
          let x = serves_before s k j e.served_is v in
          ap (λ (l : List ℕ). l ++ byte ∷ []) (w.carried begun phase x) ∙ sym (blocks x);
      block = λ a v. wrong' a;
    }
