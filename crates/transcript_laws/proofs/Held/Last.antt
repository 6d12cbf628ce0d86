-- COMMAND COMPLETE is the last message of a connection in the story where a transcript holds it.
use Rattle.transcript_laws.proofs
use proofs.Names.{ℕ, ◌≡◌, ◌∙◌, ◌⊎◌, inl, inr, Bool, true, false, not, ◌&&◌, ◌%◌, List, [], ◌∷◌, ◌++◌, Option, Some}
use proofs.Names.{None, refl, sym, ap, same_Some, is_some, if◌then◌else◌, wrong, wrong', and_second, and_first, LineSet}
use proofs.Names.{changes_phase, is_message_in, is_message_out, receiver_in, Change, Connection, Row, got_in, got_out}
use proofs.Names.{Got, MsgIn, MsgOut, fresh_bytes, left_of, is_nil, reading_out, is_unknown, ScenarioValue, whole_in}
use proofs.Names.{whole_out, message_in, message_out, Link, last_in, last_out, RunState, bus_of, run_state, in_is_whole}
use proofs.Names.{not_both, Understanding, nothing_understood, understood_byte, form_messages, IsSpeaking, out_phase}
use proofs.Names.{in_out, by_bool, link_unbegun, TalksBy, IsTaken, talk_of, heard_link, LinkAfter, says, hears, stays}
use proofs.Names.{link_crossed, link_still, out_last, last_before, OpenedValue, is_complete, messages_of, with_all_out}
use proofs.{Names.{with_in, with_in_if, spoken, phase_over, Broken}, Opened.Bytes.{OpenedBytes, still_keeps, turned}}
use proofs.Opened.Bytes.{CrossingMade, crossed_out, crossed_in, crossed_status, crossed_else, crossing_made, lines_same}
use proofs.Opened.{Bytes.{out_same}, Rows.{Going, RowMade, made_still, made_crossing, made_turn, plain_before}}
use proofs.{Opened.Rows.{knows_before}, Parts.Lists.{none_held}, Said.Words.{SaidWords, said_of}}
use Rattle.bus_transcript.specs.declared.part.Incoming.TheVariants.{Whole}
use Rattle.due_model.specs.story_model.specs.HistoryEvents as story_of

pub record HeldLast (k : RunState) (o : OpenedValue) : Type 0 where
  pub same : is_message_out (bus_of k) ≡ false → (l : Link) → k.story.link ≡ Some l
      → story_of.is_complete l.last ≡ is_complete o.held
  pub out : (l : Link) → k.story.link ≡ Some l → story_of.is_complete l.last ≡ true → is_complete o.held ≡ true

-- ---- words make a message

some_bytes : {A : Type 0} (xs : List ℕ) (b : ℕ) (ys : List ℕ) → xs ++ b ∷ ys ≡ [] → A
some_bytes [] b ys e = absurd (not_nil b ys e)
  where
    not_nil : (x : ℕ) (zs : List ℕ) → x ∷ zs ≡ [] → ⊥
    not_nil x zs z = cc
some_bytes (x ∷ xs) b ys e = absurd (not_nil x (xs ++ b ∷ ys) e)
  where
    not_nil : (x : ℕ) (zs : List ℕ) → x ∷ zs ≡ [] → ⊥
    not_nil x zs z = cc

-- Bytes that form whole messages, and are some, say one.
pub none_said : (u : Understanding) (words : List ℕ) → form_messages u words ≡ true → said_of u.half words ≡ []
    → u.half ++ words ≡ []
none_said u [] e f = nil_half u.half e
  where
    nil_half : (xs : List ℕ) → is_nil xs ≡ true → xs ++ [] ≡ []
    nil_half [] z = refl
    nil_half (x ∷ xs) z = wrong' z
none_said u (b ∷ words) e f = go (got_out (u.half ++ b ∷ [])) refl (λ z. none_said (understood_byte u b) words z)
  where
    first : (x y : Bool) → (not x && y) ≡ true → x ≡ true → u.half ++ b ∷ words ≡ []
    first true y z w = wrong' z
    first false y z w = wrong' w

    go : (g : Got MsgOut) → got_out (u.half ++ b ∷ []) ≡ g → (form_messages (understood_byte u b) words ≡ true
        → said_of (left_of (got_out (u.half ++ b ∷ [])) (u.half ++ b ∷ [])) words ≡ []
        → left_of (got_out (u.half ++ b ∷ [])) (u.half ++ b ∷ []) ++ words ≡ []) → u.half ++ b ∷ words ≡ []
    go (Got.Whole m n) is before = absurd (not_nil m _ (ap (λ (x : Got MsgOut). messages_of (whole_out x)
        ++ said_of (left_of (got_out (u.half ++ b ∷ [])) (u.half ++ b ∷ [])) words) (sym is) ∙ f))
      where
        not_nil : (x : MsgOut) (zs : List MsgOut) → x ∷ zs ≡ [] → ⊥
        not_nil x zs z = cc
    go Got.More is before =
        let tail : said_of (left_of (got_out (u.half ++ b ∷ [])) (u.half ++ b ∷ [])) words ≡ [] =
        ap (λ (x : Got MsgOut). messages_of (whole_out x)
        ++ said_of (left_of (got_out (u.half ++ b ∷ [])) (u.half ++ b ∷ [])) words) (sym is) ∙ f in
        let left : left_of (got_out (u.half ++ b ∷ [])) (u.half ++ b ∷ []) ≡ u.half ++ b ∷ [] = ap
        (λ (x : Got MsgOut). left_of x (u.half ++ b ∷ [])) is in
        nested u.half b words (ap (λ (xs : List ℕ). xs ++ words) (sym left)
        ∙ before (and_second (not (is_unknown (reading_out (got_out (u.half ++ b ∷ [])))))
        (form_messages (understood_byte u b) words) e) tail)
      where
        nested : (xs : List ℕ) (x : ℕ) (ys : List ℕ) → (xs ++ x ∷ []) ++ ys ≡ [] → xs ++ x ∷ ys ≡ []
        nested [] x ys z = some_bytes [] x ys z
        nested (y ∷ xs) x ys z = some_bytes [] y ((xs ++ x ∷ []) ++ ys) z
    go Got.Unknown is before = first (is_unknown (reading_out (got_out (u.half ++ b ∷ []))))
        (form_messages (understood_byte u b) words) e (ap (λ (x : Got MsgOut). is_unknown (reading_out x)) is)

-- Before the first phase it is not MESSAGE OUT.
unbegun_out : (s : ScenarioValue) (p : List Row) (row : Row) (n : Connection) (g : Going s p row n)
    → (run_state s p).exchange.begun ≡ false → is_message_out (bus_of (run_state s p)) ≡ false
unbegun_out s p row n g b =
    let pl = plain_before s p row n g in
    ap is_message_out pl.bus ∙ ap is_message_out (link_unbegun s p n g.link.stage (sym pl.begun ∙ b))

-- ---- what a turn holds

-- What is held stays where nothing was said.
pub still_held : (o : OpenedValue) (said : List MsgOut) → said ≡ []
    → (with_all_out (record o { said = [] }) said).held ≡ o.held
still_held o [] e = refl
still_held o (m ∷ said) e = absurd (not_nil m said e)
  where
    not_nil : (x : MsgOut) (zs : List MsgOut) → x ∷ zs ≡ [] → ⊥
    not_nil x zs z = cc

gone_held : (o : OpenedValue) (said : List MsgOut)
    → (said ≡ [] → ⊥) → (with_all_out (record o { said = [] }) said).held ≡ None
gone_held o [] e = absurd (e refl)
gone_held o (m ∷ said) e = none_held _ said refl

pub over_held : (o : OpenedValue) (l : LineSet) (half : List ℕ)
    → (phase_over o l half true).held ≡ (if is_message_in l && not (is_nil half) then Some Broken else (spoken o).held)
over_held o l half = go (is_message_in l && not (is_nil half))
  where
    go : (q : Bool)
        → (if q then with_in (spoken o) Broken else spoken o).held ≡ (if q then Some Broken else (spoken o).held)
    go true = refl
    go false = refl

-- As MESSAGE OUT is left its last byte has crossed, and a message was said in it; so none is held.
left_last : (s : ScenarioValue) (p : List Row) (row : Row) (n : Connection) (g : Going s p row n)
    → changes_phase g.going.change ≡ true → is_message_out g.going.change.before ≡ true
    → (run_state s p).story.bus_state.dialogue.is_last ≡ true
left_last s p row n g ep x = (g.going.goes.leaves (ap changes_phase g.going.goes.row_is.change_is ∙ ep)).out
    (out_phase (bus_of (run_state s p)) (ap is_message_out g.going.goes.row_is.bus_is ∙ x))

pub some_said : (s : ScenarioValue) (n : Connection) (k : RunState) (o : OpenedValue)
    → IsSpeaking s n k.served k.exchange k.story.bus_state.dialogue → SaidWords k n o → is_message_out (bus_of k) ≡ true
    → k.story.bus_state.dialogue.is_last ≡ true → o.said ≡ [] → ⊥
some_said s n k o speaks words here last none =
    some_bytes speaks.heard.before speaks.heard.byte speaks.heard.rest (sym speaks.heard.words_are
    ∙ none_said nothing_understood k.exchange.speech.words speaks.whole (sym (words.whole here last) ∙ none))

pub left_none : (s : ScenarioValue) (p : List Row) (row : Row) (n : Connection) (g : Going s p row n) (o : OpenedValue)
    → SaidWords (run_state s p) n o → changes_phase g.going.change ≡ true → is_message_out g.going.change.before ≡ true
    → (spoken o).held ≡ None
left_none s p row n g o words ep x =
    let speaks = (g.was.stood.books.speaks n g.going.goes.row_is.connection_is g.going.goes.calm).in_message_out
    (by_bool k.exchange.begun (λ z. z) (λ z. wrong' (sym (unbegun_out s p row n g z) ∙ here))) here in
    gone_held o o.said (some_said s n k o speaks words here (left_last s p row n g ep x))
  where
    k : RunState
    k = run_state s p

    here : is_message_out (bus_of k) ≡ true
    here = ap is_message_out g.going.goes.row_is.bus_is ∙ x

last_same : (m : MsgIn) → story_of.is_complete (last_in m) ≡ is_complete (Some (Whole m))
last_same MsgIn.CommandComplete = refl
last_same _ = refl

-- ---- row by row

pub held_row :
    (s : ScenarioValue) (p : List Row) (row : Row) (n : Connection) (g : Going s p row n) (o after : OpenedValue)
    → RowMade (run_state s p) row n g.going.change o after → OpenedBytes (run_state s p) n o
    → SaidWords (run_state s p) n o → HeldLast (run_state s p) o → HeldLast (run_state s (row ∷ p)) after
held_row s p row n g o after (made_still ep none e) bytes words h =
    let k : RunState = run_state s p in
    let j : RunState = run_state s (row ∷ p) in
    let w = knows_before s p row n g in
    let link : j.story.link ≡ Some w.link = link_still s k row n
    g.going.change w.link g.going.goes.row_is none w.link_is in
    let held : is_complete after.held ≡ is_complete o.held = ap (λ (x : OpenedValue). is_complete x.held) e
    ∙ ap is_complete (still_keeps o k.story.bus_state g.going.change row).held in
    let lines = out_same (bus_of k) (bus_of j) (lines_same s p row n g ep) in
    record {
      same = λ no l el. h.same (sym lines ∙ no) l (w.link_is ∙ sym link ∙ el) ∙ sym held;
      out = λ l el c. held ∙ h.out l (w.link_is ∙ sym link ∙ el) c;
    }
held_row s p row n g o after (made_crossing dev ep er e) bytes words h =
    go (crossing_made o after k.story.bus_state n c e) (link_crossed s k row n c l g.going.goes.row_is there el)
  where
    k : RunState
    k = run_state s p

    j : RunState
    j = run_state s (row ∷ p)

    c : Change
    c = g.going.change

    there : is_some (receiver_in n c) ≡ true
    there = ap (λ (x : Option ℕ). is_some x) er

    l : Link
    l = (knows_before s p row n g).link

    el : k.story.link ≡ Some l
    el = (knows_before s p row n g).link_is

    lines : is_message_out (bus_of j) ≡ is_message_out (bus_of k)
    lines = out_same (bus_of k) (bus_of j) (lines_same s p row n g ep)

    t : TalksBy s (talk_of k) n l
    t = g.was.facts.items.items.talks n g.going.goes.row_is.connection_is g.going.goes.calm l el

    no_in : is_message_in c.before ≡ false → message_in k.story.bus_state.dialogue c true ≡ None
    no_in x = ap (λ (q : Bool).
        if q then whole_in (got_in (k.story.bus_state.dialogue.half ++ c.after.data_bits % 256 ∷ [])) else None) x

    no_out : is_message_out c.before ≡ false → message_out k.story.bus_state.dialogue c true ≡ None
    no_out x = ap (λ (q : Bool). if q
        then whole_out (got_out (fresh_bytes k.story.bus_state.dialogue ++ c.after.data_bits % 256 ∷ [])) else None) x

    -- the link and what is held stay
    stay : j.story.link ≡ Some l → after.held ≡ o.held → HeldLast j after
    stay link held = record {
      same = λ no m em. h.same (sym lines ∙ no) m (el ∙ sym link ∙ em) ∙ ap is_complete (sym held);
      out = λ m em z. ap is_complete held ∙ h.out m (el ∙ sym link ∙ em) z;
    }

    no_msg : {A : Type 0} (m : MsgOut) → (let a : Option MsgOut = None in a) ≡ Some m → A
    no_msg m z = absurd cc

    no_inc : {A : Type 0} (m : MsgIn) → (let a : Option MsgIn = None in a) ≡ Some m → A
    no_inc m z = absurd cc

    other : is_message_out c.before ≡ false → is_message_in c.before ≡ false → after.held ≡ o.held
        → LinkAfter s k.story l (message_out k.story.bus_state.dialogue c true)
        (message_in k.story.bus_state.dialogue c true) j.story.link
        → HeldLast j after
    other x y held (says m a link) = no_msg m (sym (no_out x) ∙ a)
    other x y held (hears m a b link) = no_inc m (sym (no_in y) ∙ b)
    other x y held (stays a b link) = stay link held

    go : CrossingMade o after k.story.bus_state.dialogue.is_last c.before (c.after.data_bits % 256)
        (message_out k.story.bus_state.dialogue c true) (message_in k.story.bus_state.dialogue c true)
        → LinkAfter s k.story l (message_out k.story.bus_state.dialogue c true)
        (message_in k.story.bus_state.dialogue c true) j.story.link
        → HeldLast j after
    go (crossed_out x f) (says m a link) = record {
      same = λ no q eq. wrong (sym (lines ∙ ap is_message_out g.going.goes.row_is.bus_is ∙ x) ∙ no);
      out =
          λ q eq z. wrong' (sym (out_last m l (last_before _ l t.last)) ∙ ap (λ (y : Link). story_of.is_complete y.last)
          (same_Some (record l { last = last_out m l }) q (sym link ∙ eq)) ∙ z);
    }
    go (crossed_out x f) (hears m a b link) = no_inc m (sym (no_in (in_out c.before x)) ∙ b)
    go (crossed_out x f) (stays a b link) = stay link (ap (λ (y : OpenedValue). y.held) f)
    go (crossed_in x y f) (says m a link) = no_msg m (sym (no_out x) ∙ a)
    go (crossed_in x y f) (hears m a b link) =
        let held : after.held ≡ Some (Whole m) = ap (λ (z : OpenedValue). z.held) f
        ∙ ap (λ (z : Option MsgIn). (with_in_if o z).held) b in
        let last : (q : Link) → j.story.link ≡ Some q → story_of.is_complete q.last ≡ is_complete after.held =
        λ q eq. ap (λ (z : Link). story_of.is_complete z.last) (same_Some q (heard_link s k.story l m) (sym eq ∙ link))
        ∙ last_same m ∙ ap is_complete (sym held) in
        record { same = λ no q eq. last q eq; out = λ q eq z. sym (last q eq) ∙ z }
    go (crossed_in x y f) (stays a b link) =
        stay link (ap (λ (z : OpenedValue). z.held) f ∙ ap (λ (z : Option MsgIn). (with_in_if o z).held) b)
    go (crossed_status x y z f) a = other x y (ap (λ (q : OpenedValue). q.held) f) a
    go (crossed_else x y z f) a = other x y (ap (λ (q : OpenedValue). q.held) f) a
held_row s p row n g o after (made_turn ep none ef e) bytes words h =
    go (is_message_out c.before) refl (is_message_in c.before && not (is_nil half)) refl
  where
    k : RunState
    k = run_state s p

    j : RunState
    j = run_state s (row ∷ p)

    c : Change
    c = g.going.change

    half : List ℕ
    half = k.story.bus_state.dialogue.half

    l : Link
    l = (knows_before s p row n g).link

    el : k.story.link ≡ Some l
    el = (knows_before s p row n g).link_is

    link : j.story.link ≡ Some l
    link = link_still s k row n c l g.going.goes.row_is none el

    on : bus_of k ≡ c.before
    on = g.going.goes.row_is.bus_is

    t : TalksBy s (talk_of k) n l
    t = g.was.facts.items.items.talks n g.going.goes.row_is.connection_is g.going.goes.calm l el

    held : after.held ≡ (if is_message_in c.before && not (is_nil half) then Some Broken else (spoken o).held)
    held = ap (λ (x : OpenedValue). x.held) e ∙ (turned (phase_over o c.before half true) c.after).held
        ∙ over_held o c.before half

    by : story_of.is_complete l.last ≡ is_complete after.held → HeldLast j after
    by same = record {
      same = λ no m em. ap (λ (x : Link). story_of.is_complete x.last) (same_Some m l (sym em ∙ link)) ∙ same;
      out = λ m em z. sym same ∙ ap (λ (x : Link). story_of.is_complete x.last) (same_Some l m (sym link ∙ em)) ∙ z;
    }

    -- a message that is broken off comes after no COMMAND COMPLETE
    unended : (q : Bool) → story_of.is_complete l.last ≡ q → is_message_in c.before ≡ true → is_nil half ≡ false
        → story_of.is_complete l.last ≡ false
    unended false z here some = z
    unended true z here some = taken (t.completes z)
      where
        taken :
            IsTaken (talk_of k) ⊎ ((is_message_out (bus_of k) ≡ true) × (k.story.bus_state.dialogue.is_last ≡ false))
            → story_of.is_complete l.last ≡ false
        taken (inl y) = wrong' (sym some ∙ ap is_nil (in_is_whole k
            (g.was.stood.books.gives n g.going.goes.row_is.connection_is g.going.goes.calm) y.begun y.here y.all))
        taken (inr y) = not_both (bus_of k) (ap is_message_in on ∙ here) y.0

    incomplete : (q : Bool) → story_of.is_complete l.last ≡ q → is_message_out c.before ≡ true
        → story_of.is_complete l.last ≡ false
    incomplete false z x = z
    incomplete true z x = taken (t.completes z)
      where
        taken :
            IsTaken (talk_of k) ⊎ ((is_message_out (bus_of k) ≡ true) × (k.story.bus_state.dialogue.is_last ≡ false))
            → story_of.is_complete l.last ≡ false
        taken (inl y) = not_both (bus_of k) y.here (ap is_message_out on ∙ x)
        taken (inr y) = wrong (sym (left_last s p row n g ep x) ∙ y.1)

    go : (q : Bool) → is_message_out c.before ≡ q → (r : Bool) → (is_message_in c.before && not (is_nil half)) ≡ r
        → HeldLast j after
    go true x true y = wrong' (sym (λ i. in_out c.before x i && not (is_nil half)) ∙ y)
    go true x false y = by (incomplete (story_of.is_complete l.last) refl x ∙ sym (ap is_complete
        (held ∙ ap (λ (q : Bool). if q then Some Broken else (spoken o).held) y ∙ left_none s p row n g o words ep x)))
    go false x true y =
        by (unended (story_of.is_complete l.last) refl (and_first (is_message_in c.before) (not (is_nil half)) y)
        (turned_of (is_nil half) (and_second (is_message_in c.before) (not (is_nil half)) y))
        ∙ sym (ap is_complete (held ∙ ap (λ (q : Bool). if q then Some Broken else (spoken o).held) y)))
      where
        turned_of : (a : Bool) → not a ≡ true → a ≡ false
        turned_of true z = wrong' z
        turned_of false z = refl
    go false x false y = by (h.same (ap is_message_out on ∙ x) l el
        ∙ sym (ap is_complete (held ∙ ap (λ (q : Bool). if q then Some Broken else (spoken o).held) y
        ∙ still_held o o.said (bytes.said (ap is_message_out on ∙ x)))))
