-- What MESSAGE PARITY ERROR brings back agrees with what the process has: it goes on with each row of a connection. In
-- which part of it, is a parameter: the answer, by this file; its bytes, by the laws above.
use Rattle.story_laws.proofs
use proofs.Names.{inl, inr, ℕ, ◌≡◌, ◌⊎◌, Bool, true, false, ◌||◌, ◌%◌, ◌∙◌, List, [], ◌∷◌, ◌++◌, length, Option, Some}
use proofs.Names.{None, refl, sym, ap, subst, same_Some, if◌then◌else◌, is_some, slice_index_or, ⊤, wrong', Event}
use proofs.Names.{ProcId, changes_phase, is_command, is_message_in, receiver_in, Row, Change, Connection, form_in}
use proofs.Names.{got_in, MsgIn, ScenarioValue, carried_id, byte_link, fault_link, out_link, carried_link, RowReading}
use proofs.Names.{row_reading, whole_in, message_in, message_out, CarriedBytes, carried_of, is_status_phase, carried_if}
use proofs.Names.{phase_events, is_completion, end_events, row_events_by, Item, process, abort, Link, last_out, last_in}
use proofs.Names.{link_after_name, Story, story_after_events, story_after_out, story_after_in, story_after_byte}
use proofs.Names.{story_after_fault, story_in_connection, story_by_change, bytes_of_messages, message_bytes, RunState}
use proofs.Names.{carried_here, run_state_after, reading_is, link_after, AreGiven, half_after, IsRowIn, reading_in}
use proofs.Names.{none_some, StoryWay, story_way, replies_to, answered_on, change_keeps, is_marked, UndoesAnswers}
use proofs.{Names.{UndoesSame, UndoFits, is_short}, Tells.Rows.{no_events, row_shows}}
use Rattle.row_laws.proofs.Common.StoryWays as ways

-- ---- the answers after a row

abbrev pub SameIn : {A : Type 0} → (CarriedBytes → A) → RunState → RunState → Type 0
SameIn what k j = (id : ProcId) → what (carried_here j id) ≡ what (carried_here k id)

abbrev NoReplies : List Event → Type 0
NoReplies [] = ⊤
NoReplies (e ∷ shown) = ((id : ProcId) → replies_to e id ≡ false) × NoReplies shown

events_answers : (s : ScenarioValue) (b : Story) (shown : List Event) → NoReplies shown → (id : ProcId)
    → is_marked (carried_of (story_after_events s b shown).carried id) ≡ is_marked (carried_of b.carried id)
events_answers s b [] h id = refl
events_answers s b (e ∷ shown) h id = answered_on s (story_after_events s b shown) e id
    ∙ ap (λ (q : Bool). q || is_marked (carried_of (story_after_events s b shown).carried id)) (h.0 id)
    ∙ events_answers s b shown h.1 id

ended_none : (o : Option CarriedBytes) → NoReplies (end_events o)
ended_none None = tt
ended_none (Some c) = (λ id. refl, tt)

-- Of a row that leads from no COMMAND, and not to STATUS; or with which the phase stays.
pub answers_stay : (s : ScenarioValue) (k : RunState) (row : Row) (n : Connection) (c : Change) (now : Bool) (l : Link)
    → IsRowIn k row n c → is_some (receiver_in n c) ≡ now → k.story.link ≡ Some l → UndoesAnswers k row
    → (changes_phase c ≡ true → (is_command c.before ≡ false) × (is_status_phase c.after ≡ false))
    → SameIn is_marked k (run_state_after s k row)
answers_stay s k row n c now l r en link undoes quiet id =
    events_answers s (story_by_change s k.story d row) (row_events_by s k.story d row) none id
    ∙ change_keeps s k.story d row undoes id
  where
    d : RowReading
    d = row_reading k.story.bus_state row

    shown : row_events_by s k.story d row
        ≡ (if changes_phase c then phase_events s k.story (carried_if k.story l.item) c
        else if is_completion l c then end_events (carried_if k.story l.item) else [])
    shown = ap (λ (x : RowReading). row_events_by s k.story x row) (reading_is k row n c now r en)
        ∙ row_shows s k row (reading_in k.story.bus_state n c now) l link r.calm

    go : (q t : Bool) → (q ≡ true → (is_command c.before ≡ false) × (is_status_phase c.after ≡ false))
        → NoReplies (if q then phase_events s k.story (carried_if k.story l.item) c
        else if t then end_events (carried_if k.story l.item) else [])
    go true t h = let w = h refl in subst NoReplies (sym (no_events s k.story (carried_if k.story l.item) c w.0 w.1)) tt
    go false true h = ended_none (carried_if k.story l.item)
    go false false h = tt

    none : NoReplies (row_events_by s k.story d row)
    none = subst NoReplies (sym shown) (go (changes_phase c) (is_completion l c) quiet)

-- Each row of a connection leaves it as it is, but for one that leads from COMMAND or to STATUS, and for a byte that is
-- not of a message.
pub record IsKeptInside {A : Type 0} (what : CarriedBytes → A) : Type 0 where
  pub stays : (s : ScenarioValue) (k : RunState) (row : Row) (n : Connection) (c : Change) (now : Bool) (l : Link)
      → IsRowIn k row n c → is_some (receiver_in n c) ≡ now → k.story.link ≡ Some l → UndoesSame what k row
      → (changes_phase c ≡ true → (is_command c.before ≡ false) × (is_status_phase c.after ≡ false))
      → (now ≡ true → c.before.msg ≡ true) → SameIn what k (run_state_after s k row)

pub kept_answers : IsKeptInside is_marked
kept_answers = record {
  stays = λ s k row n c now l r en link undoes quiet silent. answers_stay s k row n c now l r en link undoes quiet;
}

-- ---- what would be brought back after a row

pub record UndoAfter (b : Story) (l : Link) (link : Option Link) : Type 0 where
  pub after : Link
  pub is : link ≡ Some after
  pub undo : (after.undo ≡ l.undo) ⊎ (after.undo ≡ carried_if b l.item)

pub undo_after : (s : ScenarioValue) (b : Story) (l : Link) (d : RowReading) (row : Row) → b.link ≡ Some l
    → UndoAfter b l (story_in_connection s b (Some l) d row).link
undo_after s b l d row el = go (story_way s b l d row)
  where
    stays : (link : Option Link) → link ≡ b.link → UndoAfter b l link
    stays link e = record { after = l; is = e ∙ el; undo = inl refl }

    go : {after : Story} → StoryWay s b l d row after → UndoAfter b l after.link
    go (ways.says m _ _) =
        record { after = record l { last = last_out m l }; is = out_link b l m; undo = inl refl }
    go (ways.hears m _ _ _) = record {
      after = record
          (link_after_name b.sent s.commands l m) { last = last_in m; before = l.last; undo = carried_if b l.item };
      is = carried_link _ _;
      undo = inr refl;
    }
    go (ways.carries _ _ _) = stays _ (byte_link b l d)
    go (ways.stays _) = stays _ (fault_link b l row.kind)

pub heard_after : (s : ScenarioValue) (b : Story) (l : Link) (d : RowReading) (row : Row) (m : MsgIn)
    → d.crosses ≡ true → d.out ≡ None → d.into ≡ Some m → (story_in_connection s b (Some l) d row).link ≡ Some
    (record (link_after_name b.sent s.commands l m) { last = last_in m; before = l.last; undo = carried_if b l.item })
heard_after s b l d row m e f g =
    (λ i. (if e i then (if is_some (f i) then story_after_out b l (f i) else if is_some (g i)
    then story_after_in s b l (g i) else story_after_byte b l d) else story_after_fault b l row.kind).link)
    ∙ carried_link _ _

pub own_bytes : (b : Story) (item : Option Item) (u : CarriedBytes) → carried_if b item ≡ Some u
    → u ≡ carried_of b.carried u.id
own_bytes b None u e = none_some u e
own_bytes b (Some (abort k)) u e = none_some u e
own_bytes b (Some (process id)) u e =
    let same : carried_of b.carried id ≡ u = same_Some _ u e in
    sym same
    ∙ ap (λ (x : ProcId). carried_of b.carried x) (sym (carried_id b.carried id) ∙ ap (λ (c : CarriedBytes). c.id) same)

-- It fits where it did before the row; or a message has come with the row.
pub fits_on : {A : Type 0} (what : CarriedBytes → A) (s : ScenarioValue) (k : RunState) (row : Row) (n : Connection)
    (c : Change) (now : Bool) (l : Link) → IsRowIn k row n c → is_some (receiver_in n c) ≡ now → k.story.link ≡ Some l
    → SameIn what k (run_state_after s k row) → UndoFits what k → UndoFits what (run_state_after s k row)
fits_on what s k row n c now l r en link same fits m u em eu =
    let w = undo_after s k.story l (reading_in k.story.bus_state n c now) row link in
    let is : w.after ≡ m = same_Some w.after m (sym (link_after s k row n c now r en
    ∙ ap (λ (x : Option Link). (story_in_connection s k.story x (reading_in k.story.bus_state n c now) row).link) link
    ∙ w.is) ∙ em) in
    go (ap (λ (x : Link). x.undo) is ∙ eu) w.undo
  where
    go : {after : Option CarriedBytes} → after ≡ Some u → (after ≡ l.undo) ⊎ (after ≡ carried_if k.story l.item)
        → what u ≡ what (carried_here (run_state_after s k row) u.id)
    go e (inl z) = fits l u link (sym z ∙ e) ∙ sym (same u.id)
    go e (inr z) = ap what (own_bytes k.story l.item u (sym z ∙ e)) ∙ sym (same u.id)

pub fits_heard : {A : Type 0} (what : CarriedBytes → A) (s : ScenarioValue) (k : RunState) (row : Row) (n : Connection)
    (c : Change) (l : Link) (m : MsgIn) → IsRowIn k row n c → is_some (receiver_in n c) ≡ true → k.story.link ≡ Some l
    → SameIn what k (run_state_after s k row) → message_out k.story.bus_state.dialogue c true ≡ None
    → message_in k.story.bus_state.dialogue c true ≡ Some m → UndoFits what (run_state_after s k row)
fits_heard what s k row n c l m r en link same none heard x u ex eu =
    let is = link_after s k row n c true r en
    ∙ ap (λ (o : Option Link). (story_in_connection s k.story o (reading_in k.story.bus_state n c true) row).link) link
    ∙ heard_after s k.story l (reading_in k.story.bus_state n c true) row m refl none heard in
    let own : carried_if k.story l.item ≡ Some u = ap (λ (y : Link). y.undo) (same_Some _ x (sym is ∙ ex)) ∙ eu in
    ap what (own_bytes k.story l.item u own) ∙ sym (same u.id)

-- ---- the first byte of a message of one byte

short_whole : (m : Option MsgIn) (second : List ℕ) → is_short m ≡ true
    → is_some (whole_in (got_in (slice_index_or (message_bytes m ++ second) 0 0 ∷ []))) ≡ true
unfolding form_in
short_whole None second e = wrong' e
short_whole (Some MsgIn.CommandComplete) second e = refl
short_whole (Some MsgIn.SavePointer) second e = refl
short_whole (Some MsgIn.RestorePointers) second e = refl
short_whole (Some MsgIn.Disconnect) second e = refl
short_whole (Some MsgIn.Reject) second e = wrong' e
short_whole (Some (MsgIn.Identify lun)) second e = wrong' e
short_whole (Some (MsgIn.SimpleTag n)) second e = wrong' e
short_whole (Some (MsgIn.Sdtr a)) second e = wrong' e

pub empty_front : (xs : List ℕ) → 0 ≡ length xs → xs ≡ []
empty_front [] e = refl
empty_front (x ∷ xs) e = absurd cc

pub record IsMessage (o : Option MsgIn) : Type 0 where
  pub message : MsgIn
  pub is : o ≡ Some message

some_message : (o : Option MsgIn) → is_some o ≡ true → IsMessage o
some_message None e = wrong' e
some_message (Some m) e = record { message = m; is = refl }

pub first_whole : (k : RunState) (c : Change)
    → AreGiven (bytes_of_messages k.exchange.plan.messages) k.story.bus_state.dialogue.half k.handshakes.requests
    → k.handshakes.requests ≡ 0 → is_short k.exchange.plan.messages.first ≡ true
    → c.after.data_bits % 256 ≡ slice_index_or (bytes_of_messages k.exchange.plan.messages) k.handshakes.requests 0
    → is_message_in c.before ≡ true → IsMessage (message_in k.story.bus_state.dialogue c true)
first_whole k c given zero short byte here =
    let half : k.story.bus_state.dialogue.half ≡ [] = given.half_is
    ∙ ap (half_after []) (empty_front given.before (sym zero ∙ given.count_is)) in
    let is : c.after.data_bits % 256 ≡ slice_index_or (bytes_of_messages k.exchange.plan.messages) 0 0 = byte
    ∙ ap (λ (i : ℕ). slice_index_or (bytes_of_messages k.exchange.plan.messages) i 0) zero in
    some_message (message_in k.story.bus_state.dialogue c true)
    ((λ i. is_some (if here i then whole_in (got_in (half i ++ is i ∷ [])) else None))
    ∙ short_whole k.exchange.plan.messages.first (message_bytes k.exchange.plan.messages.second) short)
