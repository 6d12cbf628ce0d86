-- A row with which no byte crosses, and no phase is left: what counts of COMMAND stays.
use Rattle.story_laws.proofs
use proofs.Names.{ℕ, ◌≡◌, Bool, true, false, not, ◌&&◌, ◌==◌, ◌∙◌, [], Option, Some, None, refl, sym, ap, subst}
use proofs.Names.{if◌then◌else◌, is_some, wrong', ProcId, LineSet, changes_phase, is_fault, receiver_in, Row, Change}
use proofs.Names.{Connection, struck_same, Handshakes, handshakes_after, has_group_len, Dialogue, ScenarioValue}
use proofs.Names.{Exchange, struck_plan, phase_of, Cause, Next, Phase, Plan, RunState, bus_of, carried_here}
use proofs.Names.{run_state_after, InConnection, in_connection, SamePhase, same_phase_is, requests_stay, is_in_phase}
use proofs.Names.{IsRowIn, IsNone, IsNoneOrAll, dialogue_of, block_count, Counts, IsUntaken, IsBeforeCommand, Restores}
use proofs.Names.{GivesBefore, opens_given, restores_given, AnswersBefore, opens_answered, restores_refused}
use proofs.Names.{restores_answered, TakesBlock, GivesFor, AnswersFor, SaysFor, StandsIn, CommandBooks}
use proofs.Commands.Turns.{SameBlocks, no_block_as, undo_as, serves_as, item_as, same_blocks}

-- In COMMAND a byte is asked for while the block is not whole, and the first one before any was taken.
pub record Waits (k : RunState) (id : ProcId) : Type 0 where
  pub fresh : (bus_of k).req ≡ false → k.handshakes.requests ≡ 0 → (carried_here k id).block ≡ []
  pub asked : (bus_of k).req ≡ true → (bus_of k).ack ≡ false → has_group_len (carried_here k id).block ≡ false

abbrev pub WaitsThen : ScenarioValue → RunState → RunState → Connection → Phase → Type 0
WaitsThen s k j n phase = phase ≡ Phase.Command → (h : TakesBlock s k n) → Waits j h.0.id

pub phase_same : (a b : LineSet) → SamePhase a b → phase_of b ≡ phase_of a
phase_same a b h = λ i. if h.msg i then (if h.io i then Phase.MessageIn else Phase.MessageOut)
    else if h.cd i then (if h.io i then Phase.Status else Phase.Command)
    else if h.io i then Phase.DataIn else Phase.DataOut

-- ---- what stays

record Same (k j : RunState) : Type 0 where
  blocks : SameBlocks k j
  dialogue_is : dialogue_of j ≡ dialogue_of k
  messages_are : j.exchange.plan.messages ≡ k.exchange.plan.messages
  next_is : j.exchange.plan.next ≡ k.exchange.plan.next
  cause_is : j.exchange.plan.cause ≡ k.exchange.plan.cause
  words_are : j.exchange.speech.words ≡ k.exchange.speech.words

before_same : (k j : RunState) (n : Connection) → Same k j → IsBeforeCommand k n → IsBeforeCommand j n
before_same k j n e h = record {
  selected = h.selected;
  heard = subst (λ (d : Dialogue). Counts IsNone d.heard) (sym e.dialogue_is) h.heard;
  at_phase = subst (λ (d : Dialogue). Counts IsNone d.at_phase) (sym e.dialogue_is) h.at_phase;
  block = no_block_as k j e.blocks h.block;
  undo = undo_as k j e.blocks h.undo;
}

untaken_same : (k j : RunState) → Same k j → IsUntaken k → IsUntaken j
untaken_same k j e h = record {
  counts = subst (λ (d : Dialogue). IsNone d.heard.now.command) (sym e.dialogue_is) h.counts;
  block = no_block_as k j e.blocks h.block;
}

restores_same : (k j : RunState) (n : Connection) → Same k j → Restores k n → Restores j n
restores_same k j n e h = record { selected = h.selected; messages_are = e.messages_are ∙ h.messages_are }

given_same : (k j : RunState) (n : Connection) → Same k j → j.handshakes.requests ≡ k.handshakes.requests
    → GivesBefore k n → GivesBefore j n
given_same k j n e er (opens_given h) = opens_given (before_same k j n e h)
given_same k j n e er (restores_given r u) =
    restores_given (restores_same k j n e r) (λ z. untaken_same k j e (u (sym (ap (λ (x : ℕ). x == 0) er) ∙ z)))

answered_same : (k j : RunState) (n : Connection) → Same k j → AnswersBefore k n → AnswersBefore j n
answered_same k j n e (opens_answered h) = opens_answered (before_same k j n e h)
answered_same k j n e (restores_refused r w) = restores_refused (restores_same k j n e r) (e.words_are ∙ w)
answered_same k j n e (restores_answered r u p h a w) = restores_answered (restores_same k j n e r)
    (untaken_same k j e u) (subst (λ (d : Dialogue). IsNone d.at_phase.now.command) (sym e.dialogue_is) p) h a
    (e.words_are ∙ w)

gives_same : (s : ScenarioValue) (k j : RunState) (n : Connection) (next : Next) → Same k j
    → j.handshakes.requests ≡ k.handshakes.requests → GivesFor s k n next → GivesFor s j n next
gives_same s k j n Next.Command e er (v, h) = (serves_as s k j e.blocks.served_is v, given_same k j n e er h)
gives_same s k j n Next.GoOn e er h = record {
  now = subst (λ (d : Dialogue). IsNoneOrAll d.heard.now.command) (sym e.dialogue_is) h.now;
  given = λ z. subst (λ (d : Dialogue). Counts IsNoneOrAll d.heard) (sym e.dialogue_is)
      (h.given (sym (ap (λ (x : ℕ). x == 0) er) ∙ z));
}
gives_same s k j n Next.Status e er h = tt
gives_same s k j n Next.FreeBus e er h = tt

answers_same : (s : ScenarioValue) (k j : RunState) (n : Connection) (next : Next) → Same k j → AnswersFor s k n next
    → AnswersFor s j n next
answers_same s k j n Next.Command e (v, h) = (serves_as s k j e.blocks.served_is v, answered_same k j n e h)
answers_same s k j n Next.GoOn e h = record {
  heard = subst (λ (d : Dialogue). Counts IsNoneOrAll d.heard) (sym e.dialogue_is) h.heard;
  at_phase = subst (λ (d : Dialogue). Counts IsNoneOrAll d.at_phase) (sym e.dialogue_is) h.at_phase;
  words_are = e.words_are ∙ h.words_are;
}
answers_same s k j n Next.Status e h = e.words_are ∙ h
answers_same s k j n Next.FreeBus e h = e.words_are ∙ h

says_same : (s : ScenarioValue) (k j : RunState) (n : Connection) (cause : Cause) → Same k j → SaysFor s k n cause
    → SaysFor s j n cause
says_same s k j n Cause.Selected e h = before_same k j n e h
says_same s k j n Cause.InMessage e h =
    subst (λ (x : Next). AnswersFor s j n x) (sym e.next_is) (answers_same s k j n k.exchange.plan.next e h)
says_same s k j n Cause.InData e h = record {
  heard = subst (λ (d : Dialogue). IsNoneOrAll d.heard.now.command) (sym e.dialogue_is) h.heard;
  at_phase = subst (λ (d : Dialogue). IsNoneOrAll d.at_phase.now.command) (sym e.dialogue_is) h.at_phase;
}
says_same s k j n Cause.InStatus e h = tt

takes_same : (s : ScenarioValue) (k j : RunState) (n : Connection) → Same k j → (h : TakesBlock s k n) → Waits j h.0.id
    → TakesBlock s j n
takes_same s k j n e h w = (
  serves_as s k j e.blocks.served_is h.0,
  record {
    selected = h.1.selected;
    counts = ap (λ (d : Dialogue). d.heard.now.command) e.dialogue_is ∙ h.1.counts
        ∙ sym (ap block_count (e.blocks.block_is h.0.id));
    fresh = w.fresh;
    asked = w.asked;
  },
)

stands_same : (s : ScenarioValue) (k j : RunState) (n : Connection) (phase : Phase) → Same k j
    → (phase ≡ Phase.MessageIn → j.handshakes.requests ≡ k.handshakes.requests) → WaitsThen s k j n phase
    → StandsIn s k n phase → StandsIn s j n phase
stands_same s k j n Phase.MessageOut e er w h =
    subst (λ (x : Cause). SaysFor s j n x) (sym e.cause_is) (says_same s k j n k.exchange.plan.cause e h)
stands_same s k j n Phase.MessageIn e er w h =
    subst (λ (x : Next). GivesFor s j n x) (sym e.next_is) (gives_same s k j n k.exchange.plan.next e (er refl) h)
stands_same s k j n Phase.Command e er w h = takes_same s k j n e h (w refl h)
stands_same s k j n Phase.DataIn e er w h =
    subst (λ (d : Dialogue). IsNoneOrAll d.heard.now.command) (sym e.dialogue_is) h
stands_same s k j n Phase.DataOut e er w h =
    subst (λ (d : Dialogue). IsNoneOrAll d.heard.now.command) (sym e.dialogue_is) h
stands_same s k j n Phase.Status e er w h = tt

-- ---- the row

plan_stays : (q : Bool) (l : Plan)
    → ((if q then struck_plan l else l).messages ≡ l.messages) × ((if q then struck_plan l else l).next ≡ l.next)
    × ((if q then struck_plan l else l).cause ≡ l.cause)
plan_stays true l = (refl, refl, refl)
plan_stays false l = (refl, refl, refl)

in_io : (b : LineSet) → phase_of b ≡ Phase.MessageIn → b.io ≡ true
in_io b e = go b.msg b.cd b.io (ap is_in_phase e)
  where
    go : (m d i : Bool) → is_in_phase (if m then (if i then Phase.MessageIn else Phase.MessageOut)
        else if d then (if i then Phase.Status else Phase.Command) else if i then Phase.DataIn else Phase.DataOut)
        ≡ true → i ≡ true
    go true d true z = refl
    go true d false z = wrong' z
    go false true true z = wrong' z
    go false true false z = wrong' z
    go false false true z = wrong' z
    go false false false z = wrong' z

pub stay_keeps : (s : ScenarioValue) (k : RunState) (row : Row) (n : Connection) (c : Change) → IsRowIn k row n c
    → changes_phase c ≡ false → receiver_in n c ≡ None → WaitsThen s k (run_state_after s k row) n (phase_of (bus_of k))
    → CommandBooks s k n → CommandBooks s (run_state_after s k row) n
stay_keeps s k row n c r ep er w h = go (is_fault row.kind) refl
  where
    j : RunState
    j = run_state_after s k row

    none : is_some (receiver_in n c) ≡ false
    none = ap (λ (z : Option ℕ). is_some z) er

    go : (fault : Bool) → is_fault row.kind ≡ fault → CommandBooks s j n
    go fault ef =
        let i = in_connection s k row n c false false fault r ep none ef in
        let p = plan_stays (fault && not c.before.io) k.exchange.plan in
        let same : Same k j = record {
          blocks = same_blocks s k row n c r none i.served_is;
          dialogue_is = i.dialogue_is;
          messages_are = ap (λ (x : Exchange). x.plan.messages) i.exchange_is ∙ p.0;
          next_is = ap (λ (x : Exchange). x.plan.next) i.exchange_is ∙ p.1;
          cause_is = ap (λ (x : Exchange). x.plan.cause) i.exchange_is ∙ p.2;
          words_are = ap (λ (x : Exchange). x.speech.words) i.exchange_is;
        } in
        let begun : j.exchange.begun ≡ k.exchange.begun = ap (λ (x : Exchange). x.begun) i.exchange_is in
        let phase : phase_of (bus_of j) ≡ phase_of (bus_of k) = ap phase_of i.bus_is
        ∙ phase_same c.before c.after (same_phase_is c ep) ∙ ap phase_of (sym r.bus_is) in
        record {
          serves = λ z. item_as s k j n i.served_is (h.serves z);
          unbegun = λ z. before_same k j n same (h.unbegun (sym begun ∙ z));
          begun = λ z. subst (λ (x : Phase). StandsIn s j n x) (sym phase) (stands_same s k j n (phase_of (bus_of k))
              same (λ x. requests fault ef i (ap (λ (l : LineSet). l.io) (sym r.bus_is) ∙ in_io (bus_of k) x)) w
              (h.begun (sym begun ∙ z)));
        }
      where
        requests : (fault : Bool) → is_fault row.kind ≡ fault → InConnection s k row n c false false fault
            → c.before.io ≡ true → j.handshakes.requests ≡ k.handshakes.requests
        requests true ef i io = ap (λ (x : Handshakes). x.requests) i.handshakes_is
            ∙ (λ z. (handshakes_after (ef z) (Some n) c row.time k.handshakes).requests)
            ∙ struck_same c.before.io k.handshakes
        requests false ef i io = ap (λ (x : Handshakes). x.requests) i.handshakes_is
            ∙ (λ z. (handshakes_after (ef z) (Some n) c row.time k.handshakes).requests)
            ∙ requests_stay n c row.time k.handshakes ep io er
