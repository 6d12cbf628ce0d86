-- A byte of a message crosses: what counts of COMMAND after it.
use Rattle.story_laws.proofs
use proofs.Names.{ℕ, ◌≡◌, ◌<◌, inl, inr, Bool, true, false, ◌==◌, ◌∙◌, List, [], ◌∷◌, ◌++◌, length, Option, Some, None}
use proofs.Names.{refl, sym, ap, subst, if◌then◌else◌, is_some, slice_index_or, wrong, wrong', zero_of, nil_of, ProcId}
use proofs.Names.{receiver_in, Row, Change, Connection, form_in, got_out, got_in, MsgIn, MsgOut, fresh_bytes, byte_out}
use proofs.Names.{byte_in, Dialogue, ScenarioValue, RowReading, whole_out, whole_in, CarriedBytes, carried_if, Item}
use proofs.Names.{Link, Story, story_after_out, story_after_in, story_after_byte, story_after_crossing}
use proofs.Names.{story_in_connection, story_with_carried, carried_after_byte_if, Exchange, one_message}
use proofs.Names.{bytes_of_messages, next_word, detected_error, Cause, Messages, Next, RunState, run_state_after}
use proofs.Names.{link_after, AreGiven, Knows, half_after, IsRowIn, reading_in, AreWordsFor, refuses, answers}
use proofs.Names.{rejects_data, rejects_status, AreWordsHeard, zero_below, IsNone, IsNoneOrAll, dialogue_of, Counts}
use proofs.Names.{UndoesToNone, IsUntaken, IsBeforeCommand, Restores, GivesBefore, opens_given, restores_given}
use proofs.Names.{AnswersBefore, opens_answered, restores_refused, restores_answered, GivesFor, AnswersFor, SaysFor}
use proofs.Commands.Blocks.{block_in, undo_of, block_after, out_block, said_block, out_undo, in_block, restores_block}
use proofs.Commands.{Blocks.{in_undo}, Counts.{byte_out_counts, byte_out_now, byte_in_counts, byte_in_first}}
use proofs.Commands.{Counts.{byte_in_now, byte_in_restores, answer_said, error_said}, Turns.{serves_as}}
use Rattle.row_laws.specs.book_laws.specs.Speaking.{opens}

-- ---- what the story tells of the byte

pub crossed_out : (s : ScenarioValue) (b : Story) (l : Link) (d : RowReading) (o : Option MsgOut) → d.out ≡ o
    → d.into ≡ None → d.change.before.msg ≡ true → story_after_crossing s b l d ≡ story_after_out b l o
crossed_out s b l d o eo ei em =
    (λ i. if is_some (eo i) then story_after_out b l (eo i) else if is_some (ei i) then story_after_in s b l (ei i)
    else if em i then b else story_with_carried b (carried_after_byte_if (carried_if b l.item) d))
    ∙ go o
  where
    go : (o : Option MsgOut) → (if is_some o then story_after_out b l o else b) ≡ story_after_out b l o
    go None = refl
    go (Some m) = refl

pub crossed_in : (s : ScenarioValue) (b : Story) (l : Link) (d : RowReading) (m : Option MsgIn) → d.out ≡ None
    → d.into ≡ m → d.change.before.msg ≡ true → story_after_crossing s b l d ≡ story_after_in s b l m
crossed_in s b l d m eo ei em =
    (λ i. if is_some (eo i) then story_after_out b l (eo i) else if is_some (ei i) then story_after_in s b l (ei i)
    else if em i then b else story_with_carried b (carried_after_byte_if (carried_if b l.item) d))
    ∙ go m
  where
    go : (m : Option MsgIn) → (if is_some m then story_after_in s b l m else b) ≡ story_after_in s b l m
    go None = refl
    go (Some x) = refl

pub crossed_else : (s : ScenarioValue) (b : Story) (l : Link) (d : RowReading) → d.out ≡ None → d.into ≡ None
    → story_after_crossing s b l d ≡ story_after_byte b l d
crossed_else s b l d eo ei = λ i. if is_some (eo i) then story_after_out b l (eo i)
    else if is_some (ei i) then story_after_in s b l (ei i) else story_after_byte b l d

-- What the row makes of the story.
pub record Tells (k j : RunState) (after : Story) : Type 0 where
  pub block_is : (id : ProcId) → block_in j.story id ≡ block_in after id
  pub link_is : j.story.link ≡ after.link

pub tells : (s : ScenarioValue) (k : RunState) (row : Row) (n : Connection) (c : Change) (l : Link) (after : Story)
    → IsRowIn k row n c → is_some (receiver_in n c) ≡ true → k.story.link ≡ Some l
    → story_after_crossing s k.story l (reading_in k.story.bus_state n c true) ≡ after
    → Tells k (run_state_after s k row) after
tells s k row n c l after r e el is = record {
  block_is = λ id. block_after s k row n c true id r e ∙ ap (λ (x : Option Link). block_in
      (story_in_connection s k.story x (reading_in k.story.bus_state n c true) row) id) el
      ∙ ap (λ (x : Story). block_in x id) is;
  link_is = link_after s k row n c true r e
      ∙ ap (λ (x : Option Link). (story_in_connection s k.story x (reading_in k.story.bus_state n c true) row).link) el
      ∙ ap (λ (x : Story). x.link) is;
}

undoes : (x : Option Link) → ((c : CarriedBytes) → undo_of x ≡ Some c → c.block ≡ []) → UndoesToNone x
undoes x h l c e f = h c (ap undo_of e ∙ f)

pub same_item : (s : ScenarioValue) (k : RunState) (n : Connection) (w : Knows s k n) → n.reselected ≡ false
    → w.link.item ≡ k.served
same_item s k n w e = elim w.item_is [ inl z ↦ z | inr z ↦ wrong (sym z.0 ∙ e) ]

-- ---- MESSAGE OUT

-- What the byte of MESSAGE OUT makes: the message, if it makes one whole; and what stays.
pub record SaidRow (s : ScenarioValue) (k j : RunState) (n : Connection) (l : Link) (byte : ℕ) (last : Bool) : Type
    0 where
  pub served_is : j.served ≡ k.served
  pub link_before : k.story.link ≡ Some l
  pub tells : Tells k j (story_after_out k.story l (whole_out (got_out (fresh_bytes (dialogue_of k) ++ byte ∷ []))))
  pub dialogue_is : dialogue_of j ≡ byte_out (dialogue_of k) byte last
  pub messages_are : j.exchange.plan.messages ≡ k.exchange.plan.messages
  pub next_is : j.exchange.plan.next ≡ k.exchange.plan.next
  pub cause_is : j.exchange.plan.cause ≡ k.exchange.plan.cause
  pub words_are : j.exchange.speech.words ≡ k.exchange.speech.words
  pub says : byte ≡ next_word k.exchange.speech
  pub speaks : AreWordsHeard k.exchange.speech k.exchange.plan (dialogue_of k)
  pub words_for : AreWordsFor s n k.served k.exchange k.exchange.plan.cause

said_before : (s : ScenarioValue) (k j : RunState) (n : Connection) (l : Link) (byte : ℕ) (last : Bool)
    → SaidRow s k j n l byte last → IsBeforeCommand k n → IsBeforeCommand j n
said_before s k j n l byte last e h = record {
  selected = h.selected;
  heard = subst (λ (d : Dialogue). Counts IsNone d.heard) (sym e.dialogue_is)
      (byte_out_counts IsNone refl (dialogue_of k) byte last h.heard h.at_phase);
  at_phase = subst (λ (d : Dialogue). Counts IsNone d.at_phase) (sym e.dialogue_is) h.at_phase;
  block = λ id f. e.tells.block_is id
      ∙ out_block k.story l (whole_out (got_out (fresh_bytes (dialogue_of k) ++ byte ∷ []))) id (λ b. b ≡ [])
      (λ c g. h.undo l c e.link_before g) (h.block id (sym e.served_is ∙ f));
  undo = undoes j.story.link (λ c f. h.undo l c e.link_before (sym (ap undo_of e.tells.link_is
      ∙ out_undo k.story l (whole_out (got_out (fresh_bytes (dialogue_of k) ++ byte ∷ []))) e.link_before) ∙ f));
}

said_restores : (s : ScenarioValue) (k j : RunState) (n : Connection) (l : Link) (byte : ℕ) (last : Bool)
    → SaidRow s k j n l byte last → Restores k n → Restores j n
said_restores s k j n l byte last e h = record { selected = h.selected; messages_are = e.messages_are ∙ h.messages_are }

said_answers : (s : ScenarioValue) (k j : RunState) (n : Connection) (l : Link) (byte : ℕ) (last : Bool)
    → SaidRow s k j n l byte last → AnswersBefore k n → AnswersBefore j n
said_answers s k j n l byte last e (opens_answered h) = opens_answered (said_before s k j n l byte last e h)
said_answers s k j n l byte last e (restores_refused r w) =
    restores_refused (said_restores s k j n l byte last e r) (e.words_are ∙ w)
said_answers s k j n l byte last e (restores_answered r u p h a w) =
    let none = answer_said k.exchange.speech k.exchange.plan (dialogue_of k) byte h a e.speaks e.says w in
    restores_answered (said_restores s k j n l byte last e r)
    (record {
      counts = subst (λ (d : Dialogue). IsNone d.heard.now.command) (sym e.dialogue_is)
          (byte_out_now IsNone refl (dialogue_of k) byte last none u.counts p);
      block = λ id f. e.tells.block_is id
          ∙ said_block k.story l (whole_out (got_out (fresh_bytes (dialogue_of k) ++ byte ∷ []))) id none
          ∙ u.block id (sym e.served_is ∙ f);
    })
    (subst (λ (d : Dialogue). IsNone d.at_phase.now.command) (sym e.dialogue_is) p) h a (e.words_are ∙ w)

said_for : (s : ScenarioValue) (k j : RunState) (n : Connection) (l : Link) (byte : ℕ) (last : Bool) (next : Next)
    → SaidRow s k j n l byte last → AnswersFor s k n next → AnswersFor s j n next
said_for s k j n l byte last Next.Command e (v, h) =
    (serves_as s k j e.served_is v, said_answers s k j n l byte last e h)
said_for s k j n l byte last Next.GoOn e h = record {
  heard = subst (λ (d : Dialogue). Counts IsNoneOrAll d.heard) (sym e.dialogue_is)
      (byte_out_counts IsNoneOrAll refl (dialogue_of k) byte last h.heard h.at_phase);
  at_phase = subst (λ (d : Dialogue). Counts IsNoneOrAll d.at_phase) (sym e.dialogue_is) h.at_phase;
  words_are = e.words_are ∙ h.words_are;
}
said_for s k j n l byte last Next.Status e h = e.words_are ∙ h
said_for s k j n l byte last Next.FreeBus e h = e.words_are ∙ h

detected_is : (s : ScenarioValue) (n : Connection) (served : Option Item) (x : Exchange) (cause : Cause)
    → cause ≡ Cause.InData → AreWordsFor s n served x cause → x.speech.words ≡ detected_error
detected_is s n served x _ e (rejects_data w) = w
detected_is s n served x _ e (rejects_status w) = w
detected_is s n served x _ e (opens w) = wrong' (ap is_data e)
  where
    is_data : Cause → Bool
    is_data Cause.InData = true
    is_data _ = false
detected_is s n served x _ e (refuses w) = wrong' (ap is_data e)
  where
    is_data : Cause → Bool
    is_data Cause.InData = true
    is_data _ = false
detected_is s n served x _ e (answers w) = wrong' (ap is_data e)
  where
    is_data : Cause → Bool
    is_data Cause.InData = true
    is_data _ = false

pub said_in : (s : ScenarioValue) (k j : RunState) (n : Connection) (l : Link) (byte : ℕ) (last : Bool) (cause : Cause)
    → k.exchange.plan.cause ≡ cause → SaidRow s k j n l byte last → SaysFor s k n cause → SaysFor s j n cause
said_in s k j n l byte last Cause.Selected ec e h = said_before s k j n l byte last e h
said_in s k j n l byte last Cause.InMessage ec e h =
    subst (λ (x : Next). AnswersFor s j n x) (sym e.next_is) (said_for s k j n l byte last k.exchange.plan.next e h)
said_in s k j n l byte last Cause.InData ec e h =
    let none = error_said k.exchange.speech k.exchange.plan (dialogue_of k) byte e.speaks e.says
    (detected_is s n k.served k.exchange k.exchange.plan.cause ec e.words_for) in
    record {
      heard = subst (λ (d : Dialogue). IsNoneOrAll d.heard.now.command) (sym e.dialogue_is)
          (byte_out_now IsNoneOrAll refl (dialogue_of k) byte last none h.heard h.at_phase);
      at_phase = subst (λ (d : Dialogue). IsNoneOrAll d.at_phase.now.command) (sym e.dialogue_is) h.at_phase;
    }
said_in s k j n l byte last Cause.InStatus ec e h = tt

-- ---- MESSAGE IN

pub record GivenRow (s : ScenarioValue) (k j : RunState) (n : Connection) (l : Link) (byte : ℕ) : Type 0 where
  pub served_is : j.served ≡ k.served
  pub link_before : k.story.link ≡ Some l
  pub item_is : n.reselected ≡ false → l.item ≡ k.served
  pub tells : Tells k j (story_after_in s k.story l (whole_in (got_in ((dialogue_of k).half ++ byte ∷ []))))
  pub dialogue_is : dialogue_of j ≡ byte_in (dialogue_of k) byte
  pub messages_are : j.exchange.plan.messages ≡ k.exchange.plan.messages
  pub next_is : j.exchange.plan.next ≡ k.exchange.plan.next
  pub says : byte ≡ slice_index_or (bytes_of_messages k.exchange.plan.messages) k.handshakes.requests 0
  pub within : k.handshakes.requests < length (bytes_of_messages k.exchange.plan.messages)
  pub given : AreGiven (bytes_of_messages k.exchange.plan.messages) (dialogue_of k).half k.handshakes.requests

given_opening : (s : ScenarioValue) (k j : RunState) (n : Connection) (l : Link) (byte : ℕ) → GivenRow s k j n l byte
    → IsBeforeCommand k n → IsBeforeCommand j n
given_opening s k j n l byte e h =
    let m = whole_in (got_in ((dialogue_of k).half ++ byte ∷ [])) in
    record {
      selected = h.selected;
      heard = subst (λ (d : Dialogue). Counts IsNone d.heard) (sym e.dialogue_is)
          (byte_in_counts IsNone refl (dialogue_of k) byte h.heard);
      at_phase = subst (λ (d : Dialogue). Counts IsNone d.at_phase) (sym e.dialogue_is) h.at_phase;
      block =
          λ id f. e.tells.block_is id ∙ in_block s k.story l m id (λ b. b ≡ []) refl (h.block id (sym e.served_is ∙ f));
      undo = undoes j.story.link
          (λ c f. in_undo s k.story l m (λ b. b ≡ []) e.link_before (λ x g. h.undo l x e.link_before g)
          (λ x g. h.block x (sym (e.item_is h.selected) ∙ g)) c (sym (ap undo_of e.tells.link_is) ∙ f));
    }

none_given : (half : List ℕ) (bytes : List ℕ) (count : ℕ) → AreGiven bytes half count → count ≡ 0 → half ≡ []
none_given half bytes count g e = g.half_is ∙ ap (half_after []) (nil_of g.before (sym g.count_is ∙ e))

restore_byte : whole_in (got_in (0x03 ∷ [])) ≡ Some MsgIn.RestorePointers
unfolding form_in
restore_byte = refl

-- The byte is RESTORE POINTERS.
restore_heard : (s : ScenarioValue) (k j : RunState) (n : Connection) (l : Link) (byte : ℕ)
    → GivenRow s k j n l byte → k.exchange.plan.messages ≡ one_message MsgIn.RestorePointers
    → whole_in (got_in ((dialogue_of k).half ++ byte ∷ [])) ≡ Some MsgIn.RestorePointers
restore_heard s k j n l byte e em =
    let few : k.handshakes.requests < 1 = subst
    (λ (m : Messages). k.handshakes.requests < length (bytes_of_messages m)) em e.within in
    let zero = zero_below k.handshakes.requests few in
    let half = none_given (dialogue_of k).half
    (bytes_of_messages k.exchange.plan.messages) k.handshakes.requests e.given zero in
    let is : byte ≡ 0x03 = e.says ∙ (λ i. slice_index_or (bytes_of_messages (em i)) (zero i) 0) in
    (λ i. whole_in (got_in (half i ++ is i ∷ []))) ∙ restore_byte

given_restores : (s : ScenarioValue) (k j : RunState) (n : Connection) (l : Link) (byte : ℕ) → GivenRow s k j n l byte
    → Restores k n → IsUntaken j
given_restores s k j n l byte e r =
    let heard = restore_heard s k j n l byte e r.messages_are in
    record {
      counts = subst (λ (d : Dialogue). IsNone d.heard.now.command) (sym e.dialogue_is)
          (byte_in_restores (dialogue_of k) byte heard);
      block = λ id f.
          e.tells.block_is id ∙ ap (λ (m : Option MsgIn). block_in (story_after_in s k.story l m) id) heard
          ∙ restores_block s k.story l id (e.item_is r.selected ∙ sym e.served_is ∙ f);
    }

given_before : (s : ScenarioValue) (k j : RunState) (n : Connection) (l : Link) (byte : ℕ) → GivenRow s k j n l byte
    → GivesBefore k n → GivesBefore j n
given_before s k j n l byte e (opens_given h) = opens_given (given_opening s k j n l byte e h)
given_before s k j n l byte e (restores_given r u) = restores_given (record {
  selected = r.selected;
  messages_are = e.messages_are ∙ r.messages_are;
}) (λ z. given_restores s k j n l byte e r)

pub given_for : (s : ScenarioValue) (k j : RunState) (n : Connection) (l : Link) (byte : ℕ) (next : Next)
    → GivenRow s k j n l byte → GivesFor s k n next → GivesFor s j n next
given_for s k j n l byte Next.Command e (v, h) = (serves_as s k j e.served_is v, given_before s k j n l byte e h)
given_for s k j n l byte Next.GoOn e h =
    let after = go (k.handshakes.requests == 0) refl in
    record {
      now = subst (λ (d : Dialogue). IsNoneOrAll d.heard.now.command) (sym e.dialogue_is)
          (byte_in_now IsNoneOrAll refl (dialogue_of k) byte h.now);
      given = λ z. subst (λ (d : Dialogue). Counts IsNoneOrAll d.heard) (sym e.dialogue_is) after;
    }
  where
    go : (q : Bool) → (k.handshakes.requests == 0) ≡ q → Counts IsNoneOrAll (byte_in (dialogue_of k) byte).heard
    go true f = byte_in_first IsNoneOrAll refl (dialogue_of k) byte
        (none_given (dialogue_of k).half (bytes_of_messages k.exchange.plan.messages) k.handshakes.requests e.given
        (zero_of k.handshakes.requests f)) h.now
    go false f = byte_in_counts IsNoneOrAll refl (dialogue_of k) byte (h.given f)
given_for s k j n l byte Next.Status e h = tt
given_for s k j n l byte Next.FreeBus e h = tt
