-- The initiator hears of a target just the messages that this plans.
use Rattle.book_laws.proofs
use proofs.Names.{ℕ, zero, suc, ◌≡◌, ◌<◌, ◌∙◌, List, [], ◌∷◌, ◌++◌, length, Option, Some, None, sym, ap, subst, arith}
use proofs.Names.{append-nil, slice_index_or, ⊤, form_in, FitsIn, got_in, in_bytes, MsgIn, left_of, whole_in}
use proofs.Names.{bytes_of_messages, message_bytes, Messages, AreGiven, OnMessage, OnMessages, half_after}
use proofs.{Carried.Areas.{split_at}, Common.Lists.{word_at}}

abbrev pub next_half : List ℕ → ℕ → List ℕ
next_half half b = left_of (got_in (half ++ b ∷ [])) (half ++ b ∷ [])

-- Each message that these bytes make whole is such.
abbrev AreHeard : (MsgIn → Type 0) → List ℕ → List ℕ → Type 0
AreHeard q half [] = ⊤
AreHeard q half (b ∷ bytes) = OnMessage q (whole_in (got_in (half ++ b ∷ []))) × AreHeard q (next_half half b) bytes

name_heard : (q : MsgIn → Type 0) (lun : ℕ) (rest : List ℕ) → lun < 8 → q (MsgIn.Identify lun) → AreHeard q [] rest
    → AreHeard q [] (in_bytes (MsgIn.Identify lun) ++ rest)
unfolding form_in
name_heard q (suc (suc (suc (suc (suc (suc (suc (suc n)))))))) rest lt h e = absurd omega (arith, lt)
name_heard q _ rest lt h e = (h, e)

one_heard : (q : MsgIn → Type 0) (m : MsgIn) (rest : List ℕ) → FitsIn m → q m → AreHeard q [] rest
    → AreHeard q [] (in_bytes m ++ rest)
unfolding form_in
one_heard q (MsgIn.Identify lun) rest f h e = name_heard q lun rest f h e
one_heard q (MsgIn.SimpleTag tag) rest f h e = (tt, (h, e))
one_heard q (MsgIn.Sdtr offer) rest f h e = (tt, (tt, (tt, (tt, (h, e)))))
one_heard q _ rest f h e = (h, e)

heard_if : (q : MsgIn → Type 0) (m : Option MsgIn) (rest : List ℕ) → OnMessage FitsIn m → OnMessage q m
    → AreHeard q [] rest → AreHeard q [] (message_bytes m ++ rest)
heard_if q None rest f h e = e
heard_if q (Some m) rest f h e = one_heard q m rest f h e

all_heard : (q : MsgIn → Type 0) (m : Messages) → OnMessages FitsIn m → OnMessages q m
    → AreHeard q [] (bytes_of_messages m)
all_heard q m f h =
    heard_if q m.first (message_bytes m.second) f.0 h.0
    (subst (λ (x : List ℕ). AreHeard q [] x) (append-nil (message_bytes m.second)) (heard_if q m.second [] f.1 h.1 tt))

heard_at : (q : MsgIn → Type 0) (half xs : List ℕ) (b : ℕ) (ys : List ℕ) → AreHeard q half (xs ++ b ∷ ys)
    → OnMessage q (whole_in (got_in (half_after half xs ++ b ∷ [])))
heard_at q half [] b ys e = e.0
heard_at q half (x ∷ xs) b ys e = heard_at q (next_half half x) xs b ys e.1

-- The message that the next byte makes whole.
pub heard_next : (q : MsgIn → Type 0) (m : Messages) (half : List ℕ) (count byte : ℕ) → OnMessages FitsIn m
    → OnMessages q m → AreGiven (bytes_of_messages m) half count → byte ≡ slice_index_or (bytes_of_messages m) count 0
    → count < length (bytes_of_messages m) → OnMessage q (whole_in (got_in (half ++ byte ∷ [])))
heard_next q m half count byte f h g e lt =
    let n = g.count_is in
    let sp = split_at g.before g.rest (bytes_of_messages m) (sym g.bytes_are) (omega arith) in
    let whole : bytes_of_messages m ≡ g.before ++ sp.0 ∷ sp.1 = g.bytes_are ∙ ap (λ (r : List ℕ). g.before ++ r) sp.2 in
    let is : byte ≡ sp.0 = e ∙ (λ i. slice_index_or (whole i) (n i) 0) ∙ word_at g.before sp.0 sp.1 in
    let same : half ++ byte ∷ [] ≡ half_after [] g.before ++ sp.0 ∷ [] = λ i. g.half_is i ++ is i ∷ [] in
    subst (λ (x : List ℕ). OnMessage q (whole_in (got_in x))) (sym same)
    (heard_at q [] g.before sp.0 sp.1 (subst (λ (x : List ℕ). AreHeard q [] x) whole (all_heard q m f h)))
