-- What the two ends are due to drive is what is next.
use Rattle.book_laws.proofs
use proofs.Names.{ℕ, ◌≡◌, Bool, true, false, not, ◌&&◌, ◌||◌, ◌∙◌, length, Some, refl, sym, ap, arith, true≢false, ◌≤◌}
use proofs.Names.{◌++◌, [], ◌∷◌, List, Option, None, length-append, suc, ltb-true, or_parts, not-false, nat_tests}
use proofs.Names.{if◌then◌else◌, is_some, ◌==◌, ◌%◌, nat_lt, slice_index_or, and_second, zero_of, LineSet, is_command}
use proofs.Names.{is_data, is_message_out, is_message_in, receiver_in, Change, Connection, has_group_len, in_bytes}
use proofs.Names.{MsgIn, ScenarioValue, Process, follows_by, next_word, bytes_of_messages, message_bytes, phase_of}
use proofs.Names.{phase_byte, has_whole_block, follows_in, Sending, byte_to_send, Messages, Phase, RunState, bus_of}
use proofs.Names.{process_here, process_served, carried_here, item_of, serving_of, sending_by, sending_of, task_if}
use proofs.Names.{in_phase, out_phase, is_command_phase, GivesNext, Gives, is_in_phase, is_out_phase, HasPhase}
use proofs.Names.{LeavesWhole, IsAnswered, IsOffered, IsOver, HasMessage, SaysNext}

-- ---- the initiator

pub answers_next : (s : ScenarioValue) (k : RunState) (n : Connection) (c : Change) → bus_of k ≡ c.before
    → IsAnswered s k n c → SaysNext k n c
answers_next s k n c eb h eo er = (
  h.byte_is (io c.before.msg c.before.cd c.before.io eo) er
      ∙ ap (λ (b : LineSet). byte_to_send b k.exchange.speech (sending_of s k)) eb
      ∙ ap (λ (q : Bool). if q then next_word k.exchange.speech
      else if is_command c.before then slice_index_or (sending_of s k).cdb (sending_of s k).command 0
      else slice_index_or (sending_of s k).sent (sending_of s k).moved 0) eo,
  h.attends_is eo er,
)
  where
    io : (m d i : Bool) → (m && d && not i) ≡ true → i ≡ false
    io true true true e = sym e
    io true true false e = refl
    io true false i e = absurd (true≢false (sym e))
    io false d i e = absurd (true≢false (sym e))

-- In COMMAND and DATA OUT it is the byte at the pointer.
pub answers_own : (s : ScenarioValue) (k : RunState) (n : Connection) (c : Change) (t : Process) → bus_of k ≡ c.before
    → IsAnswered s k n c → process_here s k ≡ Some t → is_some (receiver_in n c) ≡ true → c.before.io ≡ false
    → ((is_command c.before ≡ true
    → c.after.data_bits % 256 ≡ slice_index_or t.cdb (carried_here k t.id).command.active 0)
    × (is_data c.before ≡ true → c.after.data_bits % 256 ≡ slice_index_or t.sent (carried_here k t.id).moved.active 0))
answers_own s k n c t eb h ep er ei =
    let is : c.after.data_bits % 256 ≡ byte_to_send c.before k.exchange.speech (sending_by k (Some t)) =
    h.byte_is ei er ∙ (λ i. byte_to_send (eb i) k.exchange.speech (sending_by k (ep i))) in
    (λ e. is ∙ by c.before.msg c.before.cd c.before.io e, λ e. is ∙ of_data c.before.msg c.before.cd c.before.io e)
  where
    o : Sending
    o = sending_by k (Some t)

    by : (m d i : Bool) → (not m && d && not i) ≡ true → (if m && d && not i then next_word k.exchange.speech
        else if not m && d && not i then slice_index_or t.cdb (carried_here k t.id).command.active 0
        else slice_index_or t.sent (carried_here k t.id).moved.active 0)
        ≡ slice_index_or t.cdb (carried_here k t.id).command.active 0
    by false true false e = refl
    by _ _ _ e = absurd (true≢false (sym e))

    of_data : (m d i : Bool) → (not m && not d) ≡ true → (if m && d && not i then next_word k.exchange.speech
        else if not m && d && not i then slice_index_or t.cdb (carried_here k t.id).command.active 0
        else slice_index_or t.sent (carried_here k t.id).moved.active 0)
        ≡ slice_index_or t.sent (carried_here k t.id).moved.active 0
    of_data true d i e = absurd (true≢false (sym e))
    of_data false true i e = absurd (true≢false (sym e))
    of_data false false i e = refl

-- ---- the target

pub out_lines : (b : LineSet) → phase_of b ≡ Phase.MessageOut → (b.msg ≡ true) × (b.io ≡ false)
out_lines b e = go b.msg b.cd b.io (ap is_out_phase e)
  where
    go : (m d i : Bool) → is_out_phase (if m then (if i then Phase.MessageIn else Phase.MessageOut)
        else if d then (if i then Phase.Status else Phase.Command) else if i then Phase.DataIn else Phase.DataOut)
        ≡ true → (m ≡ true) × (i ≡ false)
    go true d false z = (refl, refl)
    go true d true z = absurd (true≢false (sym z))
    go false true true z = absurd (true≢false (sym z))
    go false true false z = absurd (true≢false (sym z))
    go false false true z = absurd (true≢false (sym z))
    go false false false z = absurd (true≢false (sym z))

-- A phase of messages is not pulsed.
in_unpulsed : (begun some : Bool) (b : LineSet) → is_message_in b ≡ true → (begun && is_data b && some) ≡ false
in_unpulsed begun some b e = go begun b.msg b.cd b.io some e
  where
    go : (q m d i r : Bool) → (m && d && i) ≡ true → (q && (not m && not d) && r) ≡ false
    go true true d i r z = refl
    go false true d i r z = refl
    go q false d i r z = absurd (true≢false (sym z))

pub offers_next : (s : ScenarioValue) (k : RunState) (n : Connection) (c : Change) → bus_of k ≡ c.before
    → IsOffered s k n c → GivesNext k n c
offers_next s k n c eb h ei er =
    let here : is_message_in (bus_of k) ≡ true = ap is_message_in eb ∙ ei in
    let phase = in_phase (bus_of k) here in
    let bytes = bytes_of_messages k.exchange.plan.messages in
    let follows : follows_in (serving_of s k n.target) k.handshakes (bus_of k).atn Phase.MessageIn ≡ true =
    sym (ap (λ (q : Bool). follows_by (serving_of s k n.target) q (bus_of k) k.handshakes)
    (in_unpulsed k.exchange.begun _ (bus_of k) here)
    ∙ ap (follows_in (serving_of s k n.target) k.handshakes (bus_of k).atn) phase) ∙ h.follows ei er in (
      h.byte_is ei er
          ∙ ap (λ (f : Phase). phase_byte (serving_of s k n.target) f k.exchange.plan.messages 0 k.handshakes.requests)
          phase,
      ltb-true k.handshakes.requests (length bytes) (and_second (k.handshakes.requests == 0 || not (bus_of k).atn)
          (nat_lt k.handshakes.requests (length bytes)) follows),
      h.begun ei er,
    )

-- ---- a phase is left

unpulsed : (begun some : Bool) (b : LineSet) → is_data b ≡ false → (begun && is_data b && some) ≡ false
unpulsed true some b e = ap (λ (q : Bool). q && some) e
unpulsed false some b e = refl

over_in : (s : ScenarioValue) (k : RunState) (n : Connection) (phase : Phase)
    → is_data (bus_of k) ≡ false → phase_of (bus_of k) ≡ phase → IsOver s k n
    → follows_in (serving_of s k n.target) k.handshakes (bus_of k).atn phase ≡ false
over_in s k n phase ed ep h = sym (ap (λ (q : Bool). follows_by (serving_of s k n.target) q (bus_of k) k.handshakes)
    (unpulsed k.exchange.begun _ (bus_of k) ed)
    ∙ ap (follows_in (serving_of s k n.target) k.handshakes (bus_of k).atn) ep)
    ∙ h.follows

-- MESSAGE OUT was left after a byte with ATN false.
pub out_over : (s : ScenarioValue) (k : RunState) (n : Connection) → is_message_out (bus_of k) ≡ true → IsOver s k n
    → k.story.bus_state.dialogue.is_last ≡ true
out_over s k n eo h =
    let f = over_in s k n Phase.MessageOut
    (data_none (bus_of k).msg (bus_of k).cd (bus_of k).io eo) (out_phase (bus_of k) eo) h in
    let atn = (or_parts (k.handshakes.answers == 0) (bus_of k).atn
    (or_parts (k.handshakes.answers == 0 || (bus_of k).atn) k.exchange.plan.struck f).0).1 in
    not-false k.story.bus_state.dialogue.is_last (sym (h.attention eo) ∙ atn)
  where
    data_none : (m d i : Bool) → (m && d && not i) ≡ true → (not m && not d) ≡ false
    data_none true d i e = refl
    data_none false d i e = absurd (true≢false (sym e))

-- COMMAND was left struck, or once the block had the length of its group.
pub command_over : (s : ScenarioValue) (k : RunState) (n : Connection) (c : Process)
    → is_command (bus_of k) ≡ true → IsOver s k n → process_served s k ≡ Some c → k.exchange.plan.struck ≡ false
    → has_group_len (carried_here k c.id).block ≡ true
command_over s k n c ec h ep es =
    let f = over_in s k n Phase.Command (data_none (bus_of k).msg (bus_of k).cd (bus_of k).io ec)
    (command_phase (bus_of k).msg (bus_of k).cd (bus_of k).io ec) h in
    not-false (has_group_len (carried_here k c.id).block)
    (sym (λ i. not (es i) && not (has_whole_block (task_if s k (ep i)))) ∙ f)
  where
    data_none : (m d i : Bool) → (not m && d && not i) ≡ true → (not m && not d) ≡ false
    data_none true d i e = refl
    data_none false true i e = refl
    data_none false false i e = absurd (true≢false (sym e))

    command_phase : (m d i : Bool) → (not m && d && not i) ≡ true
        → (if m then (if i then Phase.MessageIn else Phase.MessageOut)
        else if d then (if i then Phase.Status else Phase.Command) else if i then Phase.DataIn else Phase.DataOut)
        ≡ Phase.Command
    command_phase false true false e = refl
    command_phase _ _ _ e = absurd (true≢false (sym e))

-- MESSAGE IN was left after all its bytes, or after one with ATN true.
in_over : (s : ScenarioValue) (k : RunState) (n : Connection) → phase_of (bus_of k) ≡ Phase.MessageIn → IsOver s k n
    → ((k.handshakes.requests == 0 || not (bus_of k).atn)
    && nat_lt k.handshakes.requests (length (bytes_of_messages k.exchange.plan.messages))) ≡ false
in_over s k n e h =
    over_in s k n Phase.MessageIn (data_none (bus_of k).msg (bus_of k).cd (bus_of k).io (ap is_in_phase e)) e h
  where
    data_none : (m d i : Bool) → is_in_phase (if m then (if i then Phase.MessageIn else Phase.MessageOut)
        else if d then (if i then Phase.Status else Phase.Command) else if i then Phase.DataIn else Phase.DataOut)
        ≡ true → (not m && not d) ≡ false
    data_none true d i z = refl
    data_none false true i z = refl
    data_none false false true z = absurd (true≢false (sym z))
    data_none false false false z = absurd (true≢false (sym z))

all_given : (q a l : Bool) → ((q || not a) && l) ≡ false → a ≡ false → l ≡ false
all_given true a l e f = e
all_given false true l e f = absurd (true≢false f)
all_given false false l e f = e

one_given : (q a l : Bool) → ((q || not a) && l) ≡ false → l ≡ true → q ≡ false
one_given true a l e f = absurd (true≢false (sym f ∙ e))
one_given false a l e f = refl

at_end : (i m : ℕ) → i ≤ m → nat_lt i m ≡ false → i ≡ m
at_end i m h e = grind (arith, nat_tests)

some_bytes : (m : MsgIn) → nat_lt 0 (length (in_bytes m)) ≡ true
some_bytes MsgIn.CommandComplete = refl
some_bytes _ = refl

some_more : (m : ℕ) → nat_lt 0 (suc m) ≡ true
some_more m = grind (arith, nat_tests)

more_bytes : (xs ys : List ℕ) → nat_lt 0 (length xs) ≡ true → nat_lt 0 (length (xs ++ ys)) ≡ true
more_bytes [] ys e = absurd (true≢false (sym e))
more_bytes (x ∷ xs) ys e = some_more (length (xs ++ ys))

pub messages_some : (m : Messages) → is_some m.first ≡ true → nat_lt 0 (length (bytes_of_messages m)) ≡ true
messages_some m e = go m.first e
  where
    go : (f : Option MsgIn) → is_some f ≡ true → nat_lt 0 (length (message_bytes f ++ message_bytes m.second)) ≡ true
    go None z = absurd (true≢false (sym z))
    go (Some x) z = more_bytes (in_bytes x) (message_bytes m.second) (some_bytes x)

in_some : (s : ScenarioValue) (k : RunState) (n : Connection) → phase_of (bus_of k) ≡ Phase.MessageIn
    → is_some k.exchange.plan.messages.first ≡ true → IsOver s k n → (k.handshakes.requests == 0) ≡ false
in_some s k n e em h = go (k.handshakes.requests == 0) refl
  where
    go : (q : Bool) → (k.handshakes.requests == 0) ≡ q → (k.handshakes.requests == 0) ≡ false
    go false f = f
    go true f = one_given (k.handshakes.requests == 0) (bus_of k).atn
        (nat_lt k.handshakes.requests (length (bytes_of_messages k.exchange.plan.messages))) (in_over s k n e h) (ap
        (λ (x : ℕ). nat_lt x (length (bytes_of_messages k.exchange.plan.messages))) (zero_of k.handshakes.requests f)
        ∙ messages_some k.exchange.plan.messages em)

in_given : (s : ScenarioValue) (k : RunState) (n : Connection) → Gives k → HasPhase k
    → phase_of (bus_of k) ≡ Phase.MessageIn → IsOver s k n → (bus_of k).atn ≡ false
    → k.handshakes.requests ≡ length (bytes_of_messages k.exchange.plan.messages)
in_given s k n g f e h a =
    let msg = in_lines (bus_of k).msg (bus_of k).cd (bus_of k).io (ap is_in_phase e) in
    let lines = f msg.0 in
    let w = g.in_message_in lines.1 ((λ i. msg.0 i && lines.0 i && msg.1 i)) in
    let all = ap (λ (x : List ℕ). length x) w.bytes_are in
    let two = length-append w.before w.rest in
    let count = w.count_is in
    at_end k.handshakes.requests (length (bytes_of_messages k.exchange.plan.messages))
    (omega arith) (all_given (k.handshakes.requests == 0) (bus_of k).atn
    (nat_lt k.handshakes.requests (length (bytes_of_messages k.exchange.plan.messages))) (in_over s k n e h) a)
  where
    in_lines : (m d i : Bool) → is_in_phase (if m then (if i then Phase.MessageIn else Phase.MessageOut)
        else if d then (if i then Phase.Status else Phase.Command) else if i then Phase.DataIn else Phase.DataOut)
        ≡ true → (m ≡ true) × (i ≡ true)
    in_lines true d true z = (refl, refl)
    in_lines true d false z = absurd (true≢false (sym z))
    in_lines false true true z = absurd (true≢false (sym z))
    in_lines false true false z = absurd (true≢false (sym z))
    in_lines false false true z = absurd (true≢false (sym z))
    in_lines false false false z = absurd (true≢false (sym z))

-- A phase that the target leaves as no byte follows is left whole.
pub leaves_by : (s : ScenarioValue) (k : RunState) (n : Connection) → Gives k → HasPhase k → IsOver s k n → HasMessage k
    → (n.reselected ≡ true → is_out_phase (phase_of (bus_of k)) ≡ false
    → (is_in_phase (phase_of (bus_of k)) && (bus_of k).atn) ≡ false → is_some (item_of k.story.link) ≡ true)
    → ((c : Process) → process_served s k ≡ Some c → has_group_len c.cdb ≡ true) → LeavesWhole s k n
leaves_by s k n g lines h message named group = record {
  out = λ e. let w = out_lines (bus_of k) e in out_over s k n ((λ i. w.0 i && (lines w.0).0 i && not (w.1 i))) h;
  some = λ e. in_some s k n e (message e) h;
  given = λ e a. in_given s k n g lines e h a;
  command = λ c ep e. (
    group c ep,
    λ z. command_over s k n c (command_lines (bus_of k).msg (bus_of k).cd (bus_of k).io (ap is_command_phase e)) h ep z,
  );
  named = named;
}
  where
    command_lines : (m d i : Bool) → is_command_phase (if m then (if i then Phase.MessageIn else Phase.MessageOut)
        else if d then (if i then Phase.Status else Phase.Command) else if i then Phase.DataIn else Phase.DataOut)
        ≡ true → (not m && d && not i) ≡ true
    command_lines true d true z = absurd (true≢false (sym z))
    command_lines true d false z = absurd (true≢false (sym z))
    command_lines false true true z = absurd (true≢false (sym z))
    command_lines false true false z = refl
    command_lines false false true z = absurd (true≢false (sym z))
    command_lines false false false z = absurd (true≢false (sym z))
