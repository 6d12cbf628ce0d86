-- A byte crosses: what counts of COMMAND after it.
use Rattle.story_laws.proofs
use proofs.Names.{ℕ, ◌≡◌, ◌<◌, Bool, true, false, not, ◌&&◌, ◌%◌, ◌∙◌, List, [], ◌∷◌, ◌++◌, length, Option, Some, None}
use proofs.Names.{refl, sym, ap, subst, arith, length-append, nat_tests, if◌then◌else◌, is_some, nat_lt, slice_index}
use proofs.Names.{wrong, wrong', LineSet, changes_phase, is_message_out, is_message_in, is_command, is_fault}
use proofs.Names.{receiver_in, Row, Change, Connection, group_len, is_len, has_group_len, got_out, got_in, MsgOut}
use proofs.Names.{command_on, heard_with_command, fresh_bytes, byte_out, byte_in, byte_else, Dialogue, CommandBytes}
use proofs.Names.{Heard, ScenarioValue, RowReading, whole_out, whole_in, Link, Exchange, plan_after_message, phase_of}
use proofs.Names.{Cause, Next, Phase, Plan, RunState, bus_of, carried_here, run_state_after, counts_on, InConnection}
use proofs.Names.{in_connection, same_phase_is, Gives, GivesNext, HasPhase, Knows, IsRowIn, reading_in, Speaks}
use proofs.Names.{SaysNext, IsNoneOrAll, dialogue_of, block_count, TakesBlock, GivesFor, SaysFor, StandsIn}
use proofs.{Names.{CommandBooks}, Commands.{Blocks.{takes_block}, Messages.{crossed_out, crossed_in, crossed_else}}}
use proofs.Commands.{Messages.{tells, same_item, SaidRow, said_in, GivenRow, given_for}, Stays.{Waits, WaitsThen}}
use proofs.{Commands.{Stays.{phase_same}, Turns.{serves_as, item_as}}, Complaints.Facts.{speech_said}}

-- ---- COMMAND

pub small_block : (block rest cdb : List ℕ) → block ++ rest ≡ cdb → has_group_len cdb ≡ true → length block < 1000
small_block block rest cdb e whole =
    let few = few_bytes cdb whole in
    let all = ap (λ (x : List ℕ). length x) e in
    let two = length-append block rest in
    omega arith
  where
    of_len : (g : Option ℕ) (i : ℕ) → ((l : ℕ) → g ≡ Some l → l < 11) → is_len g i ≡ true → i < 11
    of_len None i small z = wrong' z
    of_len (Some l) i small z = let lt = small l refl in grind (arith, nat_tests)

    small_len : (first l : ℕ) → group_len first ≡ Some l → l < 11
    small_len first l z = go (nat_lt first 0x20) (nat_lt first 0x40) z
      where
        same : (m : ℕ) → m < 11 → Some m ≡ Some l → l < 11
        same m lt f = subst (λ (x : ℕ). x < 11) (ap (λ (o : Option ℕ). or_zero o) f) lt
          where
            or_zero : Option ℕ → ℕ
            or_zero None = m
            or_zero (Some x) = x

        none : (let o : Option ℕ = None in o) ≡ Some l → l < 11
        none f = absurd cc

        go : (q r : Bool) → (if q then Some 6 else if r then Some 10 else None) ≡ Some l → l < 11
        go true r f = same 6 (omega arith) f
        go false true f = same 10 (omega arith) f
        go false false f = none f

    few_bytes : (cdb : List ℕ) → has_group_len cdb ≡ true → length cdb < 11
    few_bytes cdb z = of_len (group_len (slice_index cdb 0)) (length cdb) (λ l f. small_len (slice_index cdb 0) l f) z

takes_on : (s : ScenarioValue) (k j : RunState) (n : Connection) (byte : ℕ) (b : LineSet) (h : TakesBlock s k n)
    → j.served ≡ k.served → dialogue_of j ≡ byte_else (dialogue_of k) b byte → is_command b ≡ true
    → (carried_here j h.0.id).block ≡ (carried_here k h.0.id).block ++ byte ∷ []
    → length (carried_here k h.0.id).block < 1000 → Waits j h.0.id → TakesBlock s j n
takes_on s k j n byte b h es ed ec eb few w = (
  serves_as s k j es h.0,
  record {
    selected = h.1.selected;
    counts = ap (λ (d : Dialogue). d.heard.now.command) ed ∙ ap (λ (q : Bool).
        (if q then record (dialogue_of k) { heard = heard_with_command (dialogue_of k).heard byte; begun = true }
        else record (dialogue_of k) { begun = true }).heard.now.command) ec
        ∙ ap (λ (x : CommandBytes). command_on x byte) h.1.counts ∙ counts_on (carried_here k h.0.id).block byte few
        ∙ sym (ap block_count eb);
    fresh = w.fresh;
    asked = w.asked;
  },
)

-- ---- any phase

-- What the lines of a phase are.
record PhaseTests : Type 0 where
  out : Bool
  into : Bool
  command : Bool
  msg : Bool

abbrev tests_in : Phase → PhaseTests
tests_in Phase.MessageOut = record { out = true; into = false; command = false; msg = true }
tests_in Phase.MessageIn = record { out = false; into = true; command = false; msg = true }
tests_in Phase.Command = record { out = false; into = false; command = true; msg = false }
tests_in _ = record { out = false; into = false; command = false; msg = false }

tests_of : (b : LineSet) → (b.msg ≡ true → b.cd ≡ true)
    → record { out = is_message_out b; into = is_message_in b; command = is_command b; msg = b.msg }
    ≡ tests_in (phase_of b)
tests_of b known = go b.msg b.cd b.io known
  where
    go : (m d i : Bool) → (m ≡ true → d ≡ true)
        → record { out = m && d && not i; into = m && d && i; command = not m && d && not i; msg = m }
        ≡ tests_in (if m then (if i then Phase.MessageIn else Phase.MessageOut)
        else if d then (if i then Phase.Status else Phase.Command) else if i then Phase.DataIn else Phase.DataOut)
    go true true true h = refl
    go true true false h = refl
    go true false i h = wrong' (h refl)
    go false true true h = refl
    go false true false h = refl
    go false false true h = refl
    go false false false h = refl

plan_said : (q last : Bool) (m : Option MsgOut) (l : Plan)
    → ((if q then plan_after_message l last m else l).messages ≡ l.messages)
    × ((if q then plan_after_message l last m else l).next ≡ l.next)
    × ((if q then plan_after_message l last m else l).cause ≡ l.cause)
plan_said true true m l = (refl, refl, refl)
plan_said true false m l = (refl, refl, refl)
plan_said false last m l = (refl, refl, refl)

-- What is asked of a row with which a byte crosses.
pub record Crosses (s : ScenarioValue) (k : RunState) (n : Connection) (c : Change) : Type 0 where
  pub begun : k.exchange.begun ≡ true
  pub phase : HasPhase k
  pub speaks : Speaks s k n
  pub says : SaysNext k n c
  pub gives : Gives k
  pub given : GivesNext k n c
  pub knows : Knows s k n
  pub few : (h : TakesBlock s k n) → length (carried_here k h.0.id).block < 1000

pub cross_keeps : (s : ScenarioValue) (k : RunState) (row : Row) (n : Connection) (c : Change)
    → IsRowIn k row n c → is_fault row.kind ≡ false → changes_phase c ≡ false → is_some (receiver_in n c) ≡ true
    → Crosses s k n c → WaitsThen s k (run_state_after s k row) n (phase_of (bus_of k)) → CommandBooks s k n
    → CommandBooks s (run_state_after s k row) n
cross_keeps s k row n c r ef ep er x w h = record {
  serves = λ z. item_as s k j n i.served_is (h.serves z);
  unbegun = λ z. wrong (sym (begun ∙ x.begun) ∙ z);
  begun = λ z. subst (λ (b : Phase). StandsIn s j n b) (sym phase) (go (phase_of (bus_of k)) refl (h.begun x.begun));
}
  where
    j : RunState
    j = run_state_after s k row

    d : Dialogue
    d = dialogue_of k

    byte : ℕ
    byte = c.after.data_bits % 256

    i : InConnection s k row n c false true false
    i = in_connection s k row n c false true false r ep er ef

    l : Link
    l = x.knows.link

    reading : RowReading
    reading = reading_in k.story.bus_state n c true

    begun : j.exchange.begun ≡ k.exchange.begun
    begun = ap (λ (y : Exchange). y.begun) i.exchange_is

    phase : phase_of (bus_of j) ≡ phase_of (bus_of k)
    phase = ap phase_of i.bus_is ∙ phase_same c.before c.after (same_phase_is c ep) ∙ ap phase_of (sym r.bus_is)

    plan : (j.exchange.plan.messages ≡ k.exchange.plan.messages) × (j.exchange.plan.next ≡ k.exchange.plan.next)
        × (j.exchange.plan.cause ≡ k.exchange.plan.cause)
    plan =
        let f = plan_said (is_message_out c.before) d.is_last reading.out k.exchange.plan in (
          ap (λ (y : Exchange). y.plan.messages) i.exchange_is ∙ f.0,
          ap (λ (y : Exchange). y.plan.next) i.exchange_is ∙ f.1,
          ap (λ (y : Exchange). y.plan.cause) i.exchange_is ∙ f.2,
        )

    words : j.exchange.speech.words ≡ k.exchange.speech.words
    words = ap (λ (y : Exchange). y.speech.words) i.exchange_is
        ∙ speech_said (is_message_out c.before) reading.into k.exchange.speech

    tests : (f : Phase) → phase_of (bus_of k) ≡ f → record {
      out = is_message_out c.before;
      into = is_message_in c.before;
      command = is_command c.before;
      msg = c.before.msg;
    } ≡ tests_in f
    tests f e = ap (λ (b : LineSet). record {
      out = is_message_out b;
      into = is_message_in b;
      command = is_command b;
      msg = b.msg;
    }) (sym r.bus_is) ∙ tests_of (bus_of k) (λ z. (x.phase z).0) ∙ ap tests_in e

    no_out : is_message_out c.before ≡ false → reading.out ≡ None
    no_out e = ap (λ (q : Bool). if q then whole_out (got_out (fresh_bytes d ++ byte ∷ [])) else None) e

    no_in : is_message_in c.before ≡ false → reading.into ≡ None
    no_in e = ap (λ (q : Bool). if q then whole_in (got_in (d.half ++ byte ∷ [])) else None) e

    by_byte : (a b : Bool) → is_message_out c.before ≡ a → is_message_in c.before ≡ b → dialogue_of j
        ≡ (if a then byte_out d byte (not c.after.atn) else if b then byte_in d byte else byte_else d c.before byte)
    by_byte a b ea eb = i.dialogue_is ∙ (λ y. if ea y then byte_out d byte (not c.after.atn)
        else if eb y then byte_in d byte else byte_else d c.before byte)

    -- no message, and no byte of COMMAND
    else_heard : is_message_out c.before ≡ false → is_message_in c.before ≡ false → is_command c.before ≡ false
        → (dialogue_of j).heard ≡ d.heard
    else_heard eo ei ec = ap (λ (y : Dialogue). y.heard) (by_byte false false eo ei)
        ∙ ap (λ (q : Bool). (if q then record d { heard = heard_with_command d.heard byte; begun = true }
        else record d { begun = true }).heard) ec

    go : (f : Phase) → phase_of (bus_of k) ≡ f → StandsIn s k n (phase_of (bus_of k))
        → StandsIn s j n (phase_of (bus_of k))
    go Phase.MessageOut e z =
        let t = tests Phase.MessageOut e in
        let eo = ap (λ (y : PhaseTests). y.out) t in
        let ei = ap (λ (y : PhaseTests). y.into) t in
        let on = ap is_message_out r.bus_is ∙ eo in
        let speaking = x.speaks.in_message_out x.begun on in
        let said : SaidRow s k j n l byte (not c.after.atn) = record {
          served_is = i.served_is;
          link_before = x.knows.link_is;
          tells = tells s k row n c l _ r er x.knows.link_is
              (crossed_out s k.story l reading (whole_out (got_out (fresh_bytes d ++ byte ∷ [])))
              (ap (λ (q : Bool). if q then whole_out (got_out (fresh_bytes d ++ byte ∷ [])) else None) eo) (no_in ei)
              (ap (λ (y : PhaseTests). y.msg) t));
          dialogue_is = by_byte true false eo ei;
          messages_are = plan.0;
          next_is = plan.1;
          cause_is = plan.2;
          words_are = words;
          says = (x.says eo er).0;
          speaks = speaking.heard;
          words_for = speaking.words_for;
        } in
        subst (λ (f : Phase). StandsIn s j n f) (sym e) (subst (λ (y : Cause). SaysFor s j n y) (sym plan.2) (said_in s
        k j n l byte (not c.after.atn) k.exchange.plan.cause refl said (subst (λ (f : Phase). StandsIn s k n f) e z)))
    go Phase.MessageIn e z =
        let t = tests Phase.MessageIn e in
        let eo = ap (λ (y : PhaseTests). y.out) t in
        let ei = ap (λ (y : PhaseTests). y.into) t in
        let g = x.given ei er in
        let given : GivenRow s k j n l byte = record {
          served_is = i.served_is;
          link_before = x.knows.link_is;
          item_is = λ y. same_item s k n x.knows y;
          tells = tells s k row n c l _ r er x.knows.link_is
              (crossed_in s k.story l reading (whole_in (got_in (d.half ++ byte ∷ []))) (no_out eo)
              (ap (λ (q : Bool). if q then whole_in (got_in (d.half ++ byte ∷ [])) else None) ei)
              (ap (λ (y : PhaseTests). y.msg) t));
          dialogue_is = by_byte false true eo ei;
          messages_are = plan.0;
          next_is = plan.1;
          says = g.0;
          within = g.1;
          given = x.gives.in_message_in x.begun (ap is_message_in r.bus_is ∙ ei);
        } in
        subst (λ (f : Phase). StandsIn s j n f) (sym e) (subst (λ (y : Next). GivesFor s j n y) (sym plan.1)
        (given_for s k j n l byte k.exchange.plan.next given (subst (λ (f : Phase). StandsIn s k n f) e z)))
    go Phase.Command e z =
        let t = tests Phase.Command e in
        let eo = ap (λ (y : PhaseTests). y.out) t in
        let ei = ap (λ (y : PhaseTests). y.into) t in
        let ec = ap (λ (y : PhaseTests). y.command) t in
        let em = ap (λ (y : PhaseTests). y.msg) t in
        let v : TakesBlock s k n = subst (λ (f : Phase). StandsIn s k n f) e z in
        let told = tells s k row n c l _ r er x.knows.link_is
        (crossed_else s k.story l reading (no_out eo) (no_in ei)) in
        let block : (carried_here j v.0.id).block ≡ (carried_here k v.0.id).block ++ byte ∷ [] = told.block_is v.0.id
        ∙ takes_block k.story l reading v.0.id (same_item s k n x.knows v.1.selected ∙ v.0.served_is) ec em in
        subst (λ (f : Phase). StandsIn s j n f) (sym e)
        (takes_on s k j n byte c.before v i.served_is (by_byte false false eo ei) ec block (x.few v) (w e v))
    go Phase.DataIn e z =
        let t = tests Phase.DataIn e in
        subst (λ (f : Phase). StandsIn s j n f) (sym e) (subst (λ (y : Heard). IsNoneOrAll y.now.command)
        (sym (else_heard (ap (λ (y : PhaseTests). y.out) t) (ap (λ (y : PhaseTests). y.into) t)
        (ap (λ (y : PhaseTests). y.command) t))) (subst (λ (f : Phase). StandsIn s k n f) e z))
    go Phase.DataOut e z =
        let t = tests Phase.DataOut e in
        subst (λ (f : Phase). StandsIn s j n f) (sym e) (subst (λ (y : Heard). IsNoneOrAll y.now.command)
        (sym (else_heard (ap (λ (y : PhaseTests). y.out) t) (ap (λ (y : PhaseTests). y.into) t)
        (ap (λ (y : PhaseTests). y.command) t))) (subst (λ (f : Phase). StandsIn s k n f) e z))
    go Phase.Status e z = subst (λ (f : Phase). StandsIn s j n f) (sym e) tt
