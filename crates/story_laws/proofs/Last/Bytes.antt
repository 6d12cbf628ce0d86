-- The last message of a connection, as a byte of a message crosses.
use Rattle.story_laws.proofs
use proofs.Names.{inl, inr, ℕ, ◌≡◌, ◌<◌, true, false, ◌+◌, ◌∙◌, List, [], ◌∷◌, ◌++◌, length, Option, Some, None, refl}
use proofs.Names.{sym, ap, subst, arith, same_Some, slice_index_or, wrong, wrong', is_abort, FitsIn, form_in, got_in}
use proofs.Names.{in_bytes, MsgIn, MsgOut, whole_in, Link, LastMessage, plain, complete, disconnect, last_in, last_out}
use proofs.Names.{one_message, two_messages, bytes_of_messages, message_bytes, Cause, Messages, Next, Plan, heard_next}
use proofs.Names.{AreGiven, OnMessage, OnMessages, half_after, less_apart, IsPlainIn, IsClosing, is_short, SaysEnd}
use proofs.Names.{EndsWell, LastGiven, still_stays, to_close, to_save, closed, CompletesBy, EndsWellIf}
use proofs.Undone.Rows.{empty_front}
use Rattle.story_laws.specs.LastTalks.{stays, closes, saves}

-- ---- which message is whole

short_is : (m : Option MsgIn) (second : List ℕ) → is_short m ≡ true
    → whole_in (got_in (slice_index_or (message_bytes m ++ second) 0 0 ∷ [])) ≡ m
unfolding form_in
short_is None second e = wrong' e
short_is (Some MsgIn.CommandComplete) second e = refl
short_is (Some MsgIn.SavePointer) second e = refl
short_is (Some MsgIn.RestorePointers) second e = refl
short_is (Some MsgIn.Disconnect) second e = refl
short_is (Some MsgIn.Reject) second e = wrong' e
short_is (Some (MsgIn.Identify lun)) second e = wrong' e
short_is (Some (MsgIn.SimpleTag n)) second e = wrong' e
short_is (Some (MsgIn.Sdtr a)) second e = wrong' e

pub first_is : (m : Messages) (half : List ℕ) (count byte : ℕ) → AreGiven (bytes_of_messages m) half count
    → count ≡ 0 → is_short m.first ≡ true → byte ≡ slice_index_or (bytes_of_messages m) count 0
    → whole_in (got_in (half ++ byte ∷ [])) ≡ m.first
first_is m half count byte g zero short e =
    let none : half ≡ [] = g.half_is ∙ ap (half_after []) (empty_front g.before (sym zero ∙ g.count_is)) in
    (λ i. whole_in (got_in (none i ++ (e ∙ ap (λ (x : ℕ). slice_index_or (bytes_of_messages m) x 0) zero) i ∷ [])))
    ∙ short_is m.first (message_bytes m.second) short

abbrev two : Messages
two = two_messages MsgIn.SavePointer MsgIn.Disconnect

head_or : ℕ → List ℕ → ℕ
head_or x [] = x
head_or x (y ∷ ys) = y

one_before : (before rest : List ℕ) → bytes_of_messages two ≡ before ++ rest → 1 ≡ length before
    → before ≡ in_bytes MsgIn.SavePointer
unfolding head_or
one_before [] rest e f = absurd cc
one_before (b ∷ []) rest e f = ap (λ (x : ℕ). x ∷ []) (sym (ap (head_or 0) e))
one_before (b ∷ (c ∷ before)) rest e f = absurd omega (arith, f)

half_one : half_after [] (in_bytes MsgIn.SavePointer) ≡ []
unfolding form_in
half_one = refl

second_whole : whole_in (got_in (slice_index_or (bytes_of_messages two) 1 0 ∷ [])) ≡ Some MsgIn.Disconnect
unfolding form_in
second_whole = refl

second_is : (half : List ℕ) (count byte : ℕ) → AreGiven (bytes_of_messages two) half count
    → count ≡ 1 → byte ≡ slice_index_or (bytes_of_messages two) count 0
    → whole_in (got_in (half ++ byte ∷ [])) ≡ Some MsgIn.Disconnect
second_is half count byte g one e =
    let none : half ≡ [] = g.half_is
    ∙ ap (half_after []) (one_before g.before g.rest g.bytes_are (sym one ∙ g.count_is)) ∙ half_one in
    (λ i. whole_in (got_in (none i ++ (e ∙ ap (λ (x : ℕ). slice_index_or (bytes_of_messages two) x 0) one) i ∷ [])))
    ∙ second_whole

-- ---- a byte of MESSAGE IN

-- The link after it.
pub record Hears (l m : Link) (heard : Option MsgIn) : Type 0 where
  pub none : heard ≡ None → (m.last ≡ l.last) × (m.before ≡ l.before)
  pub some : (x : MsgIn) → heard ≡ Some x → (m.last ≡ last_in x) × (m.before ≡ l.last)

end_last : (x : MsgIn) → SaysEnd x → IsClosing (last_in x)
end_last x (inl e) = inl (ap last_in e)
end_last x (inr e) = inr (ap last_in e)

end_short : (x : MsgIn) → SaysEnd x → is_short (Some x) ≡ true
end_short x (inl e) = ap (λ (y : MsgIn). is_short (Some y)) e
end_short x (inr e) = ap (λ (y : MsgIn). is_short (Some y)) e

pub end_length : (x : MsgIn) → SaysEnd x → length (bytes_of_messages (one_message x)) ≡ 1
end_length x (inl e) = ap (λ (y : MsgIn). length (bytes_of_messages (one_message y))) e
end_length x (inr e) = ap (λ (y : MsgIn). length (bytes_of_messages (one_message y))) e

is_closing : (a b : LastMessage) → a ≡ b → IsClosing b → IsClosing a
is_closing a b e h = subst IsClosing (sym e) h

not_told : {A : Type 0} → (let x : LastMessage = complete in x) ≡ disconnect → A
not_told e = absurd cc

not_said : {A : Type 0} → MsgIn.SavePointer ≡ MsgIn.CommandComplete → A
not_said e = absurd cc

first_one : (m : Messages) (x y : MsgIn) → m.first ≡ Some x → m ≡ one_message y → x ≡ y
first_one m x y e f = same_Some x y (sym e ∙ ap (λ (z : Messages). z.first) f)

completes_one : (last : LastMessage) (x : MsgIn) (m : Messages) → m ≡ one_message x → last ≡ last_in x → SaysEnd x
    → CompletesBy m last
completes_one last x m one e end =
    (by end, λ z. e ∙ ap last_in (first_one m x MsgIn.CommandComplete (ap (λ (y : Messages). y.first) one) z))
  where
    by : SaysEnd x → last ≡ complete → m ≡ one_message MsgIn.CommandComplete
    by (inl z) f = one ∙ ap one_message z
    by (inr z) f = not_told (sym f ∙ e ∙ ap last_in z)

completes_two : (last : LastMessage) (m : Messages) → m ≡ two_messages MsgIn.SavePointer MsgIn.Disconnect
    → last ≡ disconnect → CompletesBy m last
completes_two last m both e = (
  λ f. not_told (sym f ∙ e),
  λ z. not_said (first_one m MsgIn.SavePointer MsgIn.CommandComplete (ap (λ (y : Messages). y.first) both) z),
)

pub record Given (l : Link) (m : Messages) (next : Next) (count : ℕ) : Type 0 where
  pub before : l.before ≡ plain
  pub given : LastGiven l m next count

pub given_on : (l u : Link) (m : Messages) (next : Next) (half : List ℕ) (count byte : ℕ) → OnMessages FitsIn m
    → AreGiven (bytes_of_messages m) half count → byte ≡ slice_index_or (bytes_of_messages m) count 0
    → count < length (bytes_of_messages m) → Hears l u (whole_in (got_in (half ++ byte ∷ []))) → Given l m next count
    → Given u m next (count + 1)
given_on l u m next half count byte fit g e lt w h = go h.given
  where
    o : Option MsgIn
    o = whole_in (got_in (half ++ byte ∷ []))

    go : LastGiven l m next count → Given u m next (count + 1)
    go (still_stays f all last) = by o refl (heard_next IsPlainIn m half count byte fit all g e lt)
      where
        by : (x : Option MsgIn) → o ≡ x → OnMessage IsPlainIn x → Given u m next (count + 1)
        by None z none = let v = w.none z in record { before = v.1 ∙ h.before; given = still_stays f all (v.0 ∙ last) }
        by (Some x) z says =
            let v = w.some x z in
            record { before = v.1 ∙ last; given = still_stays f all (v.0 ∙ says) }
    go (to_close f x one end zero last) =
        let is : o ≡ Some x =
        first_is m half count byte g zero (ap (λ (y : Messages). is_short y.first) one ∙ end_short x end) e
        ∙ ap (λ (y : Messages). y.first) one in
        let v = w.some x is in
        let all : count + 1 ≡ length (bytes_of_messages m) = ap (λ (z : ℕ). z + 1) zero
        ∙ sym (ap (λ (y : Messages). length (bytes_of_messages y)) one ∙ end_length x end) in
        record {
          before = v.1 ∙ last;
          given = closed f (closes f x one end) all (is_closing u.last (last_in x) v.0 (end_last x end))
              (completes_one u.last x m one v.0 end);
        }
    go (to_save f both (inl zero) last) =
        let is : o ≡ Some MsgIn.SavePointer =
        first_is m half count byte g zero (ap (λ (y : Messages). is_short y.first) both) e
        ∙ ap (λ (y : Messages). y.first) both in
        let v = w.some MsgIn.SavePointer is in
        record { before = v.1 ∙ last; given = to_save f both (inr (ap (λ (z : ℕ). z + 1) zero)) v.0 }
    go (to_save f both (inr one) last) =
        let is : o ≡ Some MsgIn.Disconnect = second_is half count byte
        (subst (λ (y : Messages). AreGiven (bytes_of_messages y) half count) both g) one
        (e ∙ ap (λ (y : Messages). slice_index_or (bytes_of_messages y) count 0) both) in
        let v = w.some MsgIn.Disconnect is in
        record {
          before = v.1 ∙ last;
          given = closed f (saves f both)
              (ap (λ (z : ℕ). z + 1) one ∙ sym (ap (λ (y : Messages). length (bytes_of_messages y)) both)) (inr v.0)
              (completes_two u.last m both v.0);
        }
    go (closed f ends full last told) = less_apart count (length (bytes_of_messages m)) lt full

-- ---- MESSAGE IN begins

pub first_given : (l : Link) (m : Messages) (next : Next) (count : ℕ) → EndsWell m next → count ≡ 0 → l.last ≡ plain
    → LastGiven l m next count
first_given l m next count (stays f all) zero last = still_stays f all last
first_given l m next count (closes f x one end) zero last = to_close f x one end zero last
first_given l m next count (saves f both) zero last = to_save f both (inl zero) last

-- ---- a byte of MESSAGE OUT

pub out_last : (l : Link) (m : MsgOut) → is_abort m ≡ false → l.before ≡ plain → last_out m l ≡ plain
out_last l MsgOut.Abort e b = wrong e
out_last l MsgOut.AbortTag e b = wrong e
out_last l MsgOut.ClearQueue e b = wrong e
out_last l MsgOut.DeviceReset e b = wrong e
out_last l MsgOut.ParityError e b = b
out_last l _ e b = refl

-- ---- what is said in a phase goes by its plan

pub ends_if : (l q : Plan) → q.cause ≡ l.cause → q.messages ≡ l.messages → q.next ≡ l.next → EndsWellIf l l.cause
    → EndsWellIf q q.cause
ends_if l q ec em en h = subst (EndsWellIf q) (sym ec) (go l.cause h)
  where
    go : (cause : Cause) → EndsWellIf l cause → EndsWellIf q cause
    go Cause.InMessage w =
        subst (λ (x : Next). EndsWell q.messages x) (sym en) (subst (λ (m : Messages). EndsWell m l.next) (sym em) w)
    go _ w = tt

pub given_as : (l : Link) (m m' : Messages) (next next' : Next) (count count' : ℕ) → m' ≡ m → next' ≡ next
    → count' ≡ count → LastGiven l m next count → LastGiven l m' next' count'
given_as l m m' next next' count count' em en ec h = subst (λ (x : Messages). LastGiven l x next' count') (sym em)
    (subst (λ (x : Next). LastGiven l m x count') (sym en) (subst (λ (x : ℕ). LastGiven l m next x) (sym ec) h))
