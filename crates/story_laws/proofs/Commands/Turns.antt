-- A phase is left: what counts of COMMAND as the next one begins.
use Rattle.story_laws.proofs
use proofs.Names.{ℕ, ◌≡◌, ◌≤◌, Bool, true, false, not, ◌&&◌, ◌==◌, ◌∙◌, List, length, length-append, Option, Some, None}
use proofs.Names.{refl, sym, ap, subst, arith, nat_tests, ◌-◌, if◌then◌else◌, is_some, nat_lt, wrong, ProcId, rises}
use proofs.Names.{LineSet, changes_phase, is_message_out, is_message_in, is_fault, receiver_in, Row, Agreement, Change}
use proofs.Names.{Connection, Handshakes, no_handshakes, handshakes_after, asked_if, answered_if, has_group_len, MsgIn}
use proofs.Names.{phase_begins, Dialogue, ScenarioValue, HostDef, Exchange, one_message, plan_anew, speech_of}
use proofs.Names.{bytes_of_messages, from_byte, phase_of, leaving_by, cause_after, plan_in_message_out, plan_in_phase}
use proofs.Names.{words_after, parity_error, detected_error, answer_bytes, Cause, Hearing, Leaving, Messages, Next}
use proofs.Names.{Phase, Plan, host_of, RunState, bus_of, carried_here, run_state_after, hearing_of, leaving}
use proofs.Names.{serving_of, InConnection, in_connection, link_after, Gives, HasPhase, is_out_phase, IsRowIn}
use proofs.Names.{reading_in, out_lines, in_phase, out_phase, plan_by, IsNone, IsNoneOrAll, dialogue_of, block_count}
use proofs.Names.{Counts, HasNoBlock, UndoesToNone, Serves, IsUntaken, IsBeforeCommand, GivesBefore, opens_given}
use proofs.Names.{restores_given, AnswersBefore, opens_answered, restores_refused, restores_answered, TakesBlock}
use proofs.Names.{RejectsOn, GivesFor, AnswersFor, SaysFor, StandsIn, ItemServed, CommandBooks}
use proofs.Commands.{Blocks.{block_after, quiet_block, quiet_link}, Leavings.{IsReady, by_opening, by_restoring}}
use proofs.Commands.Leavings.{LeadsIn, LeadsTo, Leads, IsLeft, leads}

-- ---- what stays

pub record SameBlocks (k j : RunState) : Type 0 where
  pub served_is : j.served ≡ k.served
  pub block_is : (id : ProcId) → (carried_here j id).block ≡ (carried_here k id).block
  pub link_is : j.story.link ≡ k.story.link

pub no_block_as : (k j : RunState) → SameBlocks k j → HasNoBlock k → HasNoBlock j
no_block_as k j same h id e = same.block_is id ∙ h id (sym same.served_is ∙ e)

pub undo_as : (k j : RunState) → SameBlocks k j → UndoesToNone k.story.link → UndoesToNone j.story.link
undo_as k j same h l c e f = h l c (sym same.link_is ∙ e) f

abbrev pub serves_as : (s : ScenarioValue) (k j : RunState) → j.served ≡ k.served → Serves s k → Serves s j
serves_as s k j e v = record { id = v.id; served_is = e ∙ v.served_is; process = v.process; process_is = v.process_is }

pub item_as : (s : ScenarioValue) (k j : RunState) (n : Connection) → j.served ≡ k.served → ItemServed s k n
    → ItemServed s j n
item_as s k j n e v = record { item = v.item; served_is = e ∙ v.served_is; item_is = v.item_is }

-- No byte crosses in the row.
pub same_blocks : (s : ScenarioValue) (k : RunState) (row : Row) (n : Connection) (c : Change)
    → IsRowIn k row n c → is_some (receiver_in n c) ≡ false → (run_state_after s k row).served ≡ k.served
    → SameBlocks k (run_state_after s k row)
same_blocks s k row n c r e served = record {
  served_is = served;
  block_is = λ id. block_after s k row n c false id r e
      ∙ quiet_block s k.story k.story.link (reading_in k.story.bus_state n c false) row id refl;
  link_is = link_after s k row n c false r e
      ∙ quiet_link s k.story k.story.link (reading_in k.story.bus_state n c false) row refl;
}

-- ---- lines

not_out : (b : LineSet) (phase : Phase) → phase_of b ≡ phase → is_out_phase phase ≡ false → is_message_out b ≡ false
not_out b phase e f = go b.msg b.cd b.io (ap is_out_phase e ∙ f)
  where
    go : (m d i : Bool) → is_out_phase (if m then (if i then Phase.MessageIn else Phase.MessageOut)
        else if d then (if i then Phase.Status else Phase.Command) else if i then Phase.DataIn else Phase.DataOut)
        ≡ false → (m && d && not i) ≡ false
    go true true true z = refl
    go true true false z = wrong z
    go true false i z = refl
    go false d i z = refl

-- ---- MESSAGE OUT begins

data_counts : (s : ScenarioValue) (k : RunState) (n : Connection) (b : LineSet) → (b.msg ≡ true → b.cd ≡ true)
    → b.cd ≡ false → StandsIn s k n (phase_of b) → IsNoneOrAll (dialogue_of k).heard.now.command
data_counts s k n b known e h = go b.msg b.cd b.io known e h
  where
    go : (m d i : Bool) → (m ≡ true → d ≡ true) → d ≡ false
        → StandsIn s k n (if m then (if i then Phase.MessageIn else Phase.MessageOut)
        else if d then (if i then Phase.Status else Phase.Command) else if i then Phase.DataIn else Phase.DataOut)
        → IsNoneOrAll (dialogue_of k).heard.now.command
    go true d i f z w = wrong (sym (f refl) ∙ z)
    go false true i f z w = wrong z
    go false false true f z w = w
    go false false false f z w = w

-- Of the message that is refused nothing was left out.
whole_again : (m : Messages) (r : ℕ) → m ≡ one_message MsgIn.RestorePointers → r ≤ length (bytes_of_messages m)
    → from_byte m (r - 1) ≡ one_message MsgIn.RestorePointers
whole_again m r e le =
    let few : r ≤ 1 = subst (λ (x : Messages). r ≤ length (bytes_of_messages x)) e le in
    ap (λ (x : Messages). from_byte x (r - 1)) e
    ∙ ap (λ (q : Bool). if q then one_message MsgIn.RestorePointers else record { first = None; second = None })
    (below r few)
  where
    below : (r : ℕ) → r ≤ 1 → nat_lt (r - 1) 1 ≡ true
    below r h = let w : r - 1 ≤ 0 = omega arith in go (r - 1) w
      where
        go : (x : ℕ) → x ≤ 0 → nat_lt x 1 ≡ true
        go x h = grind (arith, nat_tests)

before_turn : (k j : RunState) (n : Connection) → SameBlocks k j → dialogue_of j ≡ phase_begins (dialogue_of k)
    → IsBeforeCommand k n → IsBeforeCommand j n
before_turn k j n same ed h = record {
  selected = h.selected;
  heard = subst (λ (d : Dialogue). Counts IsNone d.heard) (sym ed) h.heard;
  at_phase = subst (λ (d : Dialogue). Counts IsNone d.at_phase) (sym ed) h.heard;
  block = no_block_as k j same h.block;
  undo = undo_as k j same h.undo;
}

untaken_turn : (k j : RunState) → SameBlocks k j → dialogue_of j ≡ phase_begins (dialogue_of k) → IsUntaken k
    → IsUntaken j
untaken_turn k j same ed h = record {
  counts = subst (λ (d : Dialogue). IsNone d.heard.now.command) (sym ed) h.counts;
  block = no_block_as k j same h.block;
}

abbrev pub is_command_next : Next → Bool
is_command_next Next.Command = true
is_command_next _ = false

-- After MESSAGE IN: the words are MESSAGE PARITY ERROR where a byte was struck, else the answer to a request.
answers_turn : (s : ScenarioValue) (k j : RunState) (n : Connection) (h : Option HostDef) (a : Agreement) (next : Next)
    → SameBlocks k j → dialogue_of j ≡ phase_begins (dialogue_of k) → (k.handshakes.requests == 0) ≡ false
    → (k.exchange.plan.messages ≡ one_message MsgIn.RestorePointers
    → j.exchange.plan.messages ≡ one_message MsgIn.RestorePointers)
    → j.exchange.speech.words ≡ (if k.handshakes.struck then parity_error else answer_bytes h a)
    → (k.handshakes.struck ≡ false → next ≡ Next.Command) → GivesFor s k n next → AnswersFor s j n next
answers_turn s k j n h a next same ed some again words asks g = go k.handshakes.struck refl next refl g
  where
    said : (q : Bool) → k.handshakes.struck ≡ q
        → j.exchange.speech.words ≡ (if q then parity_error else answer_bytes h a)
    said q e = words ∙ ap (λ (r : Bool). if r then parity_error else answer_bytes h a) e

    before : (q : Bool) → k.handshakes.struck ≡ q → Serves s k → GivesBefore k n → Serves s j × AnswersBefore j n
    before q e v (opens_given x) = (serves_as s k j same.served_is v, opens_answered (before_turn k j n same ed x))
    before true e v (restores_given r u) = (
      serves_as s k j same.served_is v,
      restores_refused (record { selected = r.selected; messages_are = again r.messages_are }) (said true e),
    )
    before false e v (restores_given r u) =
        let w = u some in (
          serves_as s k j same.served_is v,
          restores_answered (record { selected = r.selected; messages_are = again r.messages_are })
              (untaken_turn k j same ed w) (subst (λ (d : Dialogue). IsNone d.at_phase.now.command) (sym ed) w.counts) h
              a (said false e),
        )

    parity : (x : Next) → next ≡ x → is_command_next x ≡ false → (q : Bool) → k.handshakes.struck ≡ q
        → j.exchange.speech.words ≡ parity_error
    parity x f z true e = said true e
    parity x f z false e = wrong (sym (ap is_command_next (sym f ∙ asks e)) ∙ z)

    go : (q : Bool) → k.handshakes.struck ≡ q → (x : Next) → next ≡ x → GivesFor s k n next → AnswersFor s j n next
    go q e Next.Command f z = subst (λ (y : Next). AnswersFor s j n y) (sym f)
        (let w = subst (λ (y : Next). GivesFor s k n y) f z in before q e w.0 w.1)
    go q e Next.GoOn f z =
        let w = (subst (λ (y : Next). GivesFor s k n y) f z).given some in
        subst (λ (y : Next). AnswersFor s j n y) (sym f) (record {
          heard = subst (λ (d : Dialogue). Counts IsNoneOrAll d.heard) (sym ed) w;
          at_phase = subst (λ (d : Dialogue). Counts IsNoneOrAll d.at_phase) (sym ed) w;
          words_are = parity Next.GoOn f refl q e;
        })
    go q e Next.Status f z = subst (λ (y : Next). AnswersFor s j n y) (sym f) (parity Next.Status f refl q e)
    go q e Next.FreeBus f z = subst (λ (y : Next). AnswersFor s j n y) (sym f) (parity Next.FreeBus f refl q e)

-- ---- another phase begins

enters_in : (s : ScenarioValue) (k j : RunState) (n : Connection) (next : Next) (m : Messages) → SameBlocks k j
    → dialogue_of j ≡ phase_begins (dialogue_of k) → j.handshakes.requests ≡ 0 → j.exchange.plan.messages ≡ m
    → LeadsIn s k n m next → GivesFor s j n next
enters_in s k j n Next.Command m same ed er em (v, by_opening x) =
    (serves_as s k j same.served_is v, opens_given (before_turn k j n same ed x))
enters_in s k j n Next.Command m same ed er em (v, by_restoring sel e) = (
  serves_as s k j same.served_is v,
  restores_given (record { selected = sel; messages_are = em ∙ e }) (λ z. wrong (sym (ap (λ (x : ℕ). x == 0) er) ∙ z)),
)
enters_in s k j n Next.GoOn m same ed er em h = record {
  now = subst (λ (d : Dialogue). IsNoneOrAll d.heard.now.command) (sym ed) h;
  given = λ z. wrong (sym (ap (λ (x : ℕ). x == 0) er) ∙ z);
}
enters_in s k j n Next.Status m same ed er em h = tt
enters_in s k j n Next.FreeBus m same ed er em h = tt

enters_command : (s : ScenarioValue) (k j : RunState) (n : Connection) → SameBlocks k j
    → dialogue_of j ≡ phase_begins (dialogue_of k) → IsReady s k n → TakesBlock s j n
enters_command s k j n same ed h =
    let none = same.block_is h.serves.id ∙ h.untaken.block h.serves.id h.serves.served_is in (
      serves_as s k j same.served_is h.serves,
      record {
        selected = h.selected;
        counts =
            subst (λ (d : Dialogue). IsNone d.heard.now.command) (sym ed) h.untaken.counts ∙ sym (ap block_count none);
        fresh = λ a b. none;
        asked = λ a b. ap has_group_len none;
      },
    )

-- A phase other than MESSAGE OUT.
enters : (s : ScenarioValue) (k j : RunState) (n : Connection) (l : Leaving) (phase : Phase) → SameBlocks k j
    → dialogue_of j ≡ phase_begins (dialogue_of k) → j.handshakes.requests ≡ 0 → j.exchange.plan.messages ≡ l.messages
    → j.exchange.plan.next ≡ l.next → is_out_phase phase ≡ false → LeadsTo s k n l.next l.messages (Some phase)
    → StandsIn s j n phase
enters s k j n l Phase.MessageOut same ed er em en o h = wrong o
enters s k j n l Phase.MessageIn same ed er em en o h =
    subst (λ (x : Next). GivesFor s j n x) (sym en) (enters_in s k j n l.next l.messages same ed er em h)
enters s k j n l Phase.Command same ed er em en o h = enters_command s k j n same ed h
enters s k j n l Phase.DataIn same ed er em en o h =
    subst (λ (d : Dialogue). IsNoneOrAll d.heard.now.command) (sym ed) h
enters s k j n l Phase.DataOut same ed er em en o h =
    subst (λ (d : Dialogue). IsNoneOrAll d.heard.now.command) (sym ed) h
enters s k j n l Phase.Status same ed er em en o h = tt

-- MESSAGE OUT, after a phase to the initiator.
refuses : (s : ScenarioValue) (k j : RunState) (n : Connection) (b : LineSet) (w : Hearing)
    → w.change.before ≡ b → w.struck ≡ k.handshakes.struck → w.offered ≡ k.handshakes.requests
    → bus_of k ≡ b → (b.msg ≡ true → b.cd ≡ true) → SameBlocks k j
    → dialogue_of j ≡ phase_begins (dialogue_of k) → j.exchange.plan ≡ plan_in_message_out w k.exchange.plan
    → j.exchange.speech.words ≡ words_after (host_of s n.initiator) w k.exchange.speech.asked
    → (is_message_in b ≡ true → (k.handshakes.requests == 0) ≡ false)
    → (is_message_in b ≡ true → k.handshakes.requests ≤ length (bytes_of_messages k.exchange.plan.messages))
    → (is_message_in b ≡ true → k.handshakes.struck ≡ false → k.exchange.plan.next ≡ Next.Command)
    → StandsIn s k n (phase_of b) → SaysFor s j n j.exchange.plan.cause
refuses s k j n b w eb es eo on known same ed ep ew some within asks h = subst (λ (x : Cause). SaysFor s j n x)
    (sym (ap (λ (l : Plan). l.cause) ep ∙ ap cause_after eb)) (go (is_message_in b) refl b.cd refl)
  where
    in_message : is_message_in b ≡ true → AnswersFor s j n j.exchange.plan.next
    in_message e =
        let before : is_message_in w.change.before ≡ true = ap is_message_in eb ∙ e in
        let messages : j.exchange.plan.messages ≡ from_byte k.exchange.plan.messages (k.handshakes.requests - 1) =
        ap (λ (l : Plan). l.messages) ep
        ∙ ap (λ (q : Bool). if q then from_byte k.exchange.plan.messages (w.offered - 1) else k.exchange.plan.messages)
        before ∙ ap (λ (r : ℕ). from_byte k.exchange.plan.messages (r - 1)) eo in
        let words : j.exchange.speech.words
        ≡ (if k.handshakes.struck then parity_error else answer_bytes (host_of s n.initiator) k.exchange.speech.asked) =
        ew ∙ (λ i. if not (before i) then detected_error
        else if es i then parity_error else answer_bytes (host_of s n.initiator) k.exchange.speech.asked) in
        let next : j.exchange.plan.next ≡ k.exchange.plan.next = ap (λ (l : Plan). l.next) ep in
        subst (λ (x : Next). AnswersFor s j n x) (sym next)
        (answers_turn s k j n (host_of s n.initiator) k.exchange.speech.asked k.exchange.plan.next same ed (some e)
        (λ z. messages ∙ whole_again k.exchange.plan.messages k.handshakes.requests z (within e)) words (asks e)
        (subst (λ (x : Phase). StandsIn s k n x) (in_phase b e) h))

    go : (q : Bool) → is_message_in b ≡ q → (r : Bool) → b.cd ≡ r
        → SaysFor s j n (if is_message_in b then Cause.InMessage else if b.cd then Cause.InStatus else Cause.InData)
    go true e r f = subst (λ (x : Bool). SaysFor s j n
        (if x then Cause.InMessage else if b.cd then Cause.InStatus else Cause.InData)) (sym e) (in_message e)
    go false e true f = subst (λ (x : Bool). SaysFor s j n
        (if is_message_in b then Cause.InMessage else if x then Cause.InStatus else Cause.InData)) (sym f)
        (subst (λ (x : Bool). SaysFor s j n (if x then Cause.InMessage else Cause.InStatus)) (sym e) tt)
    go false e false f =
        let now = data_counts s k n b known f h in
        let both : RejectsOn j = record {
          heard = subst (λ (d : Dialogue). IsNoneOrAll d.heard.now.command) (sym ed) now;
          at_phase = subst (λ (d : Dialogue). IsNoneOrAll d.at_phase.now.command) (sym ed) now;
        } in
        subst (λ (x : Bool). SaysFor s j n
        (if is_message_in b then Cause.InMessage else if x then Cause.InStatus else Cause.InData)) (sym f)
        (subst (λ (x : Bool). SaysFor s j n (if x then Cause.InMessage else Cause.InData)) (sym e) both)

-- What is asked of a row that turns to another phase.
pub record Turns (s : ScenarioValue) (k : RunState) (n : Connection) (c : Change) : Type 0 where
  pub first : k.exchange.begun ≡ false → is_message_out c.after ≡ true
  pub whereto : k.exchange.begun ≡ true → (leaving s k n.target).to ≡ Some (phase_of c.after)
  pub left : k.exchange.begun ≡ true → IsLeft s k (phase_of (bus_of k))
  pub known : c.after.msg ≡ true → c.after.cd ≡ true
  pub selected : k.exchange.begun ≡ false → k.exchange.plan.cause ≡ Cause.Selected
  pub asks : is_message_out c.after ≡ true → is_message_in (bus_of k) ≡ true → k.handshakes.struck ≡ false
      → k.exchange.plan.next ≡ Next.Command

pub turn_keeps : (s : ScenarioValue) (k : RunState) (row : Row) (n : Connection) (c : Change) → IsRowIn k row n c
    → HasPhase k → Gives k → is_fault row.kind ≡ false → changes_phase c ≡ true → is_some (receiver_in n c) ≡ false
    → Turns s k n c → CommandBooks s k n → CommandBooks s (run_state_after s k row) n
turn_keeps s k row n c r phase gives ef ep er t h = record {
  serves = λ z. item_as s k j n i.served_is (h.serves z);
  unbegun = λ z. wrong (sym (ap (λ (x : Exchange). x.begun) i.exchange_is) ∙ z);
  begun = λ z. subst (λ (b : LineSet). StandsIn s j n (phase_of b)) (sym i.bus_is)
      (go k.exchange.begun refl (phase_of c.after) refl);
}
  where
    j : RunState
    j = run_state_after s k row

    i : InConnection s k row n c true false false
    i = in_connection s k row n c true false false r ep er ef

    w : Hearing
    w = hearing_of k row (reading_in k.story.bus_state n c false)

    l : Leaving
    l = leaving s k n.target

    same : SameBlocks k j
    same = same_blocks s k row n c r er i.served_is

    requests : j.handshakes.requests ≡ 0
    requests = ap (λ (x : Handshakes). x.requests) i.handshakes_is
        ∙ (λ z. (handshakes_after (ef z) (Some n) c row.time k.handshakes).requests)
        ∙ (λ z. (if ep z then no_handshakes else answered_if (rises c.before.ack c.after.ack) row.time
        (asked_if (rises c.before.req c.after.req) row.time k.handshakes)).requests)

    plan : j.exchange.plan ≡ plan_in_phase w l k.exchange.plan
    plan = ap (λ (x : Exchange). x.plan) i.exchange_is

    not_first : (phase : Phase) → phase_of c.after ≡ phase → is_out_phase phase ≡ false → is_message_out c.after ≡ false
    not_first phase e o = not_out c.after phase e o

    by_plan : (q : Bool) → is_message_out c.after ≡ q → (b : Bool) → k.exchange.begun ≡ b
        → j.exchange.plan ≡ (if not q then record (plan_anew k.exchange.plan) { messages = l.messages; next = l.next }
        else if b then plan_in_message_out w k.exchange.plan else plan_anew k.exchange.plan)
    by_plan q e b f = plan
        ∙ plan_by w l k.exchange.plan e f

    lead : k.exchange.begun ≡ true → LeadsTo s k n l.next l.messages (Some (phase_of c.after))
    lead b =
        let here = leads s k n n.target (bus_of k).atn (phase_of (bus_of k)) (t.left b) (h.begun b) in
        let mine : Leads s k n l = subst
        (λ (q : Bool). Leads s k n (leaving_by (serving_of s k n.target) q (bus_of k))) (sym b) here in
        subst (λ (o : Option Phase). LeadsTo s k n l.next l.messages o) (t.whereto b) mine

    within : is_message_in (bus_of k) ≡ true → k.exchange.begun ≡ true
        → k.handshakes.requests ≤ length (bytes_of_messages k.exchange.plan.messages)
    within z b =
        let g = gives.in_message_in b z in
        let all = ap (λ (x : List ℕ). length x) g.bytes_are in
        let two = length-append g.before g.rest in
        let count = g.count_is in
        omega arith

    others : k.exchange.begun ≡ true → (phase : Phase) → phase_of c.after ≡ phase → is_out_phase phase ≡ false
        → StandsIn s j n (phase_of c.after)
    others b phase e o =
        let p = by_plan false (not_first phase e o) true b in
        subst (λ (x : Phase). StandsIn s j n x) (sym e)
        (enters s k j n l phase same i.dialogue_is requests (ap (λ (x : Plan). x.messages) p)
        (ap (λ (x : Plan). x.next) p) o (subst (λ (x : Phase). LeadsTo s k n l.next l.messages (Some x)) e (lead b)))

    go : (b : Bool) → k.exchange.begun ≡ b → (phase : Phase) → phase_of c.after ≡ phase
        → StandsIn s j n (phase_of c.after)
    go false b phase e =
        let out = t.first b in
        let p = by_plan true out false b in
        subst (λ (x : Phase). StandsIn s j n x) (sym (out_phase c.after out)) (subst (λ (x : Cause). SaysFor s j n x)
        (sym (ap (λ (x : Plan). x.cause) p ∙ t.selected b)) (before_turn k j n same i.dialogue_is (h.unbegun b)))
    go true b Phase.MessageOut e =
        let out = out_lines c.after e t.known in
        let words : j.exchange.speech.words ≡ words_after (host_of s n.initiator) w k.exchange.speech.asked =
        ap (λ (x : Exchange). x.speech.words) i.exchange_is ∙ (λ z. (if out z && b z
        then speech_of k.exchange.speech (words_after (host_of s n.initiator) w k.exchange.speech.asked)
        else record k.exchange.speech { place = 0 }).words) in
        subst (λ (x : Phase). StandsIn s j n x) (sym e) (refuses s k j n (bus_of k) w
        (sym r.bus_is) refl refl refl (λ z. (phase z).0) same i.dialogue_is (by_plan true out true b) words
        (λ z. (t.left b).some (in_phase (bus_of k) z)) (λ z. within z b) (t.asks out) (h.begun b))
    go true b Phase.MessageIn e = others b Phase.MessageIn e refl
    go true b Phase.Command e = others b Phase.Command e refl
    go true b Phase.DataIn e = others b Phase.DataIn e refl
    go true b Phase.DataOut e = others b Phase.DataOut e refl
    go true b Phase.Status e = others b Phase.Status e refl
