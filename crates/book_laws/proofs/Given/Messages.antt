-- MESSAGE IN begins with a reselection; and no byte of it makes an unknown message, nor is one half given at the end.
use Rattle.book_laws.proofs
use proofs.Names.{ℕ, zero, suc, ◌≡◌, ◌<◌, Bool, true, false, not, ◌&&◌, ◌∙◌, List, [], ◌∷◌, ◌++◌, length, Option, Some}
use proofs.Names.{None, refl, sym, ap, subst, arith, append-nil, length-append, true≢false, not-true, if◌then◌else◌}
use proofs.Names.{is_some, slice_index_or, ◌%◌, and_first, and_second, rises, changes_phase, is_message_out}
use proofs.Names.{is_message_in, receiver_in, Row, Change, Connection, no_handshakes, handshakes_after, asked_if}
use proofs.Names.{answered_if, form_in, FitsIn, got_out, got_in, in_bytes, MsgIn, opened, dialogue_after, reading_out}
use proofs.Names.{reading_of, Reading, is_unknown, ScenarioValue, Tag, row_reading, agreement_in, aim_of, no_messages}
use proofs.Names.{bytes_of_messages, message_bytes, first_plan, Ready, tag_named, Messages, RunState, bus_of}
use proofs.Names.{run_state_after, messages_if, first_exchange, exchange_after, may_negotiate, leaving_of, ready_of}
use proofs.Names.{OnMessage, OnMessages, Gives, GivesNext, half_after, form_messages_in, IsFirstRow}
use proofs.{Carried.Areas.{split_at}, Common.Lists.{word_at}, Given.{Heard.{next_half}, Rows.{gives_as, answered_same}}}
use proofs.Said.Messages.{nil_is}
use Rattle.due_model.specs.bus_phases.specs.Reading.{reading_in}

-- ---- the first row

names_fit : (r : Option Ready) → ((x : Ready) → r ≡ Some x → x.process.unit < 8) → OnMessages FitsIn (messages_if r)
names_fit None h = (tt, tt)
names_fit (Some r) h = (h r refl, tagged r.process.tag)
  where
    tagged : (t : Tag) → OnMessage FitsIn (tag_named t)
    tagged Tag.Untagged = tt
    tagged _ = tt

-- REQ has not risen yet.
pub first_requests : (s : ScenarioValue) (k : RunState) (row : Row) (n : Connection) → IsFirstRow k row n
    → (run_state_after s k row).handshakes.requests ≡ 0
first_requests s k row n h = (λ i. (handshakes_after (h.lines i) (h.next_is i)
    (row_reading k.story.bus_state row).change row.time k.handshakes).requests)
    ∙ ap (λ (q : Bool). (if changes_phase (row_reading k.story.bus_state row).change then no_handshakes else answered_if
    (rises (row_reading k.story.bus_state row).change.before.ack (row_reading k.story.bus_state row).change.after.ack)
    row.time (asked_if q row.time k.handshakes)).requests) h.asks_none
    ∙ begun (changes_phase (row_reading k.story.bus_state row).change)
    (rises (row_reading k.story.bus_state row).change.before.ack (row_reading k.story.bus_state row).change.after.ack)
  where
    begun : (q r : Bool) → (if q then no_handshakes else answered_if r row.time k.handshakes).requests ≡ 0
    begun true r = refl
    begun false r = answered_same r row.time k.handshakes ∙ h.none_asked

pub gives_first : (s : ScenarioValue) (k : RunState) (row : Row) (n : Connection) → IsFirstRow k row n
    → (n.reselected ≡ true → (r : Ready) → ready_of s k n.target ≡ Some r → r.process.unit < 8)
    → Gives (run_state_after s k row)
gives_first s k row n h named =
    let d = row_reading k.story.bus_state row in
    let k' = run_state_after s k row in
    gives_as k'.exchange (first_exchange s k n (aim_of k.story.aims n.initiator)) k'.story.bus_state.dialogue
    (opened (agreement_in k.story.bus_state.agreed n.initiator n.target)) k'.handshakes (bus_of k') d.change.after
    (λ i. exchange_after s k row d (h.connection_is i) (h.next_is i) (leaving_of s k k.story.bus_state.connection))
    (λ i. dialogue_after k.story.bus_state.dialogue (h.connection_is i) (h.next_is i)
    (λ j u. agreement_in k.story.bus_state.agreed j u) d.change) refl (record {
      fit = fits n.reselected refl;
      in_message_in = λ f g. record {
        before = [];
        rest = bytes_of_messages (first_exchange s k n (aim_of k.story.aims n.initiator)).plan.messages;
        bytes_are = refl;
        count_is = first_requests s k row n h;
        half_is = refl;
      };
    })
  where
    fits : (q : Bool) → n.reselected ≡ q → OnMessages FitsIn
        (first_plan n.reselected (not n.reselected && may_negotiate k n (aim_of k.story.aims n.initiator))
        (if n.reselected then messages_if (ready_of s k n.target) else no_messages)).messages
    fits true e = subst
        (λ (q : Bool). OnMessages FitsIn (first_plan q (not q && may_negotiate k n (aim_of k.story.aims n.initiator))
        (if q then messages_if (ready_of s k n.target) else no_messages)).messages) (sym e)
        (names_fit (ready_of s k n.target) (named e))
    fits false e = subst
        (λ (q : Bool). OnMessages FitsIn (first_plan q (not q && may_negotiate k n (aim_of k.story.aims n.initiator))
        (if q then messages_if (ready_of s k n.target) else no_messages)).messages) (sym e) (tt, tt)

-- ---- messages

named_whole : (lun : ℕ) (rest : List ℕ) → lun < 8 → form_messages_in [] rest ≡ true
    → form_messages_in [] (in_bytes (MsgIn.Identify lun) ++ rest) ≡ true
unfolding form_in
named_whole (suc (suc (suc (suc (suc (suc (suc (suc n)))))))) rest lt e = absurd omega (arith, lt)
named_whole _ rest lt e = e

message_whole : (m : MsgIn) (rest : List ℕ) → FitsIn m → form_messages_in [] rest ≡ true
    → form_messages_in [] (in_bytes m ++ rest) ≡ true
unfolding form_in
message_whole (MsgIn.Identify lun) rest h e = named_whole lun rest h e
message_whole _ rest h e = e

whole_if : (m : Option MsgIn) (rest : List ℕ) → OnMessage FitsIn m → form_messages_in [] rest ≡ true
    → form_messages_in [] (message_bytes m ++ rest) ≡ true
whole_if None rest h e = e
whole_if (Some m) rest h e = message_whole m rest h e

messages_whole : (m : Messages) → OnMessages FitsIn m → form_messages_in [] (bytes_of_messages m) ≡ true
messages_whole m h = whole_if m.first (message_bytes m.second) h.0
    (ap (form_messages_in []) (sym (append-nil (message_bytes m.second))) ∙ whole_if m.second [] h.1 refl)

whole_at : (half xs : List ℕ) (b : ℕ) (ys : List ℕ) → form_messages_in half (xs ++ b ∷ ys) ≡ true
    → not (is_unknown (reading_in (got_in (half_after half xs ++ b ∷ [])))) ≡ true
whole_at half [] b ys e =
    and_first (not (is_unknown (reading_in (got_in (half ++ b ∷ []))))) (form_messages_in (next_half half b) ys) e
whole_at half (x ∷ xs) b ys e = whole_at (next_half half x) xs b ys (and_second
    (not (is_unknown (reading_in (got_in (half ++ x ∷ []))))) (form_messages_in (next_half half x) (xs ++ b ∷ ys)) e)

whole_end : (half xs : List ℕ) → form_messages_in half xs ≡ true → half_after half xs ≡ []
whole_end half [] e = nil_is half e
whole_end half (x ∷ xs) e = whole_end (next_half half x) xs
    (and_second (not (is_unknown (reading_in (got_in (half ++ x ∷ []))))) (form_messages_in (next_half half x) xs) e)

none_left : (xs ys all : List ℕ) → all ≡ xs ++ ys → length all ≡ length xs → xs ≡ all
none_left xs [] all e l = sym (append-nil xs) ∙ sym e
none_left xs (y ∷ ys) all e l =
    let a = ap length e in
    let b = length-append xs (y ∷ ys) in
    absurd omega (arith, a, b, l)

-- After the last byte no message is heard half.
pub in_is_whole : (k : RunState) → Gives k → k.exchange.begun ≡ true → is_message_in (bus_of k) ≡ true
    → k.handshakes.requests ≡ length (bytes_of_messages k.exchange.plan.messages) → k.story.bus_state.dialogue.half ≡ []
in_is_whole k g eb ei el =
    let w = g.in_message_in eb ei in
    let all = none_left w.before w.rest
    (bytes_of_messages k.exchange.plan.messages) w.bytes_are (sym el ∙ w.count_is) in
    w.half_is ∙ ap (half_after []) all
    ∙ whole_end [] (bytes_of_messages k.exchange.plan.messages) (messages_whole k.exchange.plan.messages g.fit)

-- No byte makes an unknown message.
pub in_is_known : (k : RunState) (n : Connection) (c : Change) → Gives k → k.exchange.begun ≡ true
    → bus_of k ≡ c.before → is_message_in c.before ≡ true → is_message_out c.before ≡ false → GivesNext k n c
    → is_unknown (reading_of k.story.bus_state.dialogue.half (Some n) c) ≡ false
in_is_known k n c g eb ec ei eo next = go (is_some (receiver_in n c)) refl
  where
    go : (q : Bool) → is_some (receiver_in n c) ≡ q
        → is_unknown (reading_of k.story.bus_state.dialogue.half (Some n) c) ≡ false
    go false e = ap (λ (q : Bool). is_unknown (if q then if is_message_out c.before
        then reading_out (got_out (k.story.bus_state.dialogue.half ++ c.after.data_bits % 256 ∷ []))
        else if is_message_in c.before
        then reading_in (got_in (k.story.bus_state.dialogue.half ++ c.after.data_bits % 256 ∷ []))
        else Reading.NoMessage else Reading.NoMessage)) e
    go true e =
        let w = g.in_message_in eb (ap is_message_in ec ∙ ei) in
        let y = next ei e in
        let bytes = bytes_of_messages k.exchange.plan.messages in
        let lt : length w.before < length bytes = let a = w.count_is in let b = y.1 in omega arith in
        let sp = split_at w.before w.rest bytes (sym w.bytes_are) lt in
        let all : bytes ≡ w.before ++ sp.0 ∷ sp.1 = w.bytes_are ∙ ap (λ (r : List ℕ). w.before ++ r) sp.2 in
        let is : c.after.data_bits % 256 ≡ sp.0 = y.0
        ∙ (λ i. slice_index_or (all i) (w.count_is i) 0) ∙ word_at w.before sp.0 sp.1 in
        (λ i. is_unknown (if e i
        then if eo i then reading_out (got_out (k.story.bus_state.dialogue.half ++ c.after.data_bits % 256 ∷ []))
        else if ei i then reading_in (got_in (k.story.bus_state.dialogue.half ++ c.after.data_bits % 256 ∷ []))
        else Reading.NoMessage else Reading.NoMessage))
        ∙ (λ i. is_unknown (reading_in (got_in (w.half_is i ++ is i ∷ []))))
        ∙ not-true (is_unknown (reading_in (got_in (half_after [] w.before ++ sp.0 ∷ [])))) (whole_at [] w.before sp.0
        sp.1 (ap (form_messages_in []) (sym all) ∙ messages_whole k.exchange.plan.messages g.fit))
