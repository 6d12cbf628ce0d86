-- Texts that are put one after another.
use Rattle.std.proofs.Common.{◌≡◌, ℕ, ◌+◌, ◌≤◌, List, [], ◌∷◌, ◌++◌, append_assoc, append-nil, drop, refl, ap, sym}
use Rattle.std.proofs.Common.{subst, ◌∙◌, arith, Bool, true, false, length}
use Rattle.std.specs.Prelude.{Option, Some, None, IfSome, take}
use Rattle.std.proofs.lemmas.List.{take-append-drop}
use Rattle.std.proofs.Math.Seq.{take-append_seam}
use Rattle.bus_base.specs.Faults.{HasRisen}
use Rattle.text_pages.specs.Pages.{Place, IsSent, Takes, IsPut, Puts}

-- what was taken later, where the bytes taken so far are known
told : (w next : Option (List ℕ)) (xs held rest text : List ℕ) → w ≡ Some xs → Takes w next held rest text
    → Takes (Some xs) next held rest text
told w next xs held rest text is takes =
    let P : Option (List ℕ) → Type 0 = λ o. Takes o next held rest text in
    subst P is takes

takes_then : (w0 w1 w2 : Option (List ℕ)) (h0 h1 rest a b : List ℕ) → Takes w0 w1 h0 h1 a → Takes w1 w2 h1 rest b
    → Takes w0 w2 h0 rest (a ++ b)
takes_then None w1 w2 h0 h1 rest a b first second = tt
takes_then (Some xs) w1 w2 h0 h1 rest a b (s, is, has) second =
    let more = told w1 w2 (xs ++ s) h1 rest b is second in (
      s ++ more.0,
      more.1 ∙ ap Some (append_assoc xs s more.0),
      append_assoc s more.0 rest ∙ ap (λ ys. s ++ ys) more.2 ∙ sym (append_assoc s h1 b) ∙ ap (λ ys. ys ++ b) has
          ∙ append_assoc h0 a b,
    )

takes_on : (w0 w1 : Option (List ℕ)) (h rest a b : List ℕ) → Takes w0 w1 h rest a → Takes w0 w1 h (rest ++ b) (a ++ b)
takes_on None w1 h rest a b first = tt
takes_on (Some xs) w1 h rest a b (s, is, has) =
    (s, is, sym (append_assoc s rest b) ∙ ap (λ ys. ys ++ b) has ∙ append_assoc h a b)

both : (x y z : Bool) (o m n : Place) (a b : List ℕ) → IsPut x y o m a → IsPut y z m n b → o.faults ≤ m.faults
    → m.faults ≤ n.faults → IsPut x z o n (a ++ b)
both false false false o m n a b first second rise more = takes_then _ _ _ _ _ _ a b first second
both false false true o m n a b first second rise more =
    ((second.0.0, takes_then _ _ _ _ _ _ a b first second.0.1), omega (arith, second.1))
both false true true o m n a b first second rise more = (
  (
    first.0.0 ++ b,
    subst (λ w. Takes o.written w o.held (first.0.0 ++ b) (a ++ b)) (sym second) (takes_on _ _ _ _ a b first.0.1),
  ),
  omega (arith, first.1),
)
both true true true o m n a b first second rise more = second ∙ first
both x true false o m n a b first second rise more = absurd second
both true false z o m n a b first second rise more = absurd first

-- one text and then another
pub and_then : {o m n : Place} {a b : List ℕ} → Puts o m a → Puts m n b → Puts o n (a ++ b)
and_then {o = o} {m = m} {n = n} {a = a} {b = b} first second = record {
  bytes = both o.failed m.failed n.failed o m n a b first.bytes second.bytes first.never_falls second.never_falls;
  never_falls = omega (arith, first.never_falls, second.never_falls);
}

-- the same text in other words
pub put_as : {o n : Place} {a : List ℕ} (b : List ℕ) → Puts o n a → a ≡ b → Puts o n b
put_as {o = o} {n = n} b put same = subst (λ t. Puts o n t) same put

-- a text that ends with a space, and then another
pub and_spaced : {o m n : Place} {b : List ℕ} (a : List ℕ) → Puts o m (a ++ 32 ∷ []) → Puts m n b
    → Puts o n (a ++ (32 ∷ [] ++ b))
and_spaced {o = o} {n = n} {b = b} a first second =
    subst (λ t. Puts o n t) (append_assoc a (32 ∷ []) b) (and_then first second)

-- the page had room
held_more : (failed : Bool) (o n : Place) (text : List ℕ) → n.written ≡ o.written → n.held ≡ o.held ++ text
    → IsPut failed failed o n text
held_more true o n text same is = same
held_more false o n text same is = go o.written n.written same where
  go : (w v : Option (List ℕ)) → v ≡ w → Takes w v o.held n.held text
  go None v same = tt
  go (Some xs) v same = ([], same ∙ ap Some (sym (append-nil xs)), is)

pub held : (o n : Place) (text : List ℕ) → n.written ≡ o.written → n.faults ≡ o.faults → n.failed ≡ o.failed
    → n.held ≡ o.held ++ text → Puts o n text
held o n text same count flag is = record {
  bytes = subst (λ x. IsPut o.failed x o n text) (sym flag) (held_more o.failed o n text same is);
  never_falls = omega (arith, count);
}

-- nothing was put
pub nothing : (p : Place) → Puts p p []
nothing p = held p p [] refl refl refl (sym (append-nil p.held))

-- the page was written, and the text after it
takes_all : (w v : Option (List ℕ)) (h text piece : List ℕ) → IfSome w (λ xs. v ≡ Some (xs ++ piece))
    → piece ≡ h ++ text → Takes w v h [] text
takes_all None v h text piece wrote is = tt
takes_all (Some xs) v h text piece wrote is = (piece, wrote, append-nil piece ∙ is)

takes_front : (w v : Option (List ℕ)) (h text piece : List ℕ)
    → IfSome w (λ xs. (k : ℕ) × (v ≡ Some (xs ++ take k piece))) → piece ≡ h ++ text
    → (rest : List ℕ) × Takes w v h rest text
takes_front None v h text piece wrote is = ([], tt)
takes_front (Some xs) v h text piece (k, wrote) is =
    (drop k piece, (take k piece, wrote, take-append-drop k piece ∙ is))

sent_put : (x y : Bool) (o n : Place) (text piece : List ℕ) → IsSent x y o.written n.written o.faults n.faults piece
    → piece ≡ o.held ++ text → n.held ≡ [] → IsPut x y o n text
sent_put false false o n text piece sends is empty =
    subst (λ h. Takes o.written n.written o.held h text) (sym empty) (takes_all _ _ _ text piece sends is)
sent_put false true o n text piece sends is empty = (takes_front _ _ _ text piece sends.0 is, sends.1)
sent_put true true o n text piece sends is empty = sends
sent_put true false o n text piece sends is empty = absurd sends

pub sent : (o n : Place) (text piece : List ℕ) → IsSent o.failed n.failed o.written n.written o.faults n.faults piece
    → o.faults ≤ n.faults → piece ≡ o.held ++ text → n.held ≡ [] → Puts o n text
sent o n text piece sends rise is empty =
    record { bytes = sent_put o.failed n.failed o n text piece sends is empty; never_falls = rise }

-- From `start` a loop has put a part of a whole text, and the rest is left.
pub record IsOn (start now : Place) (whole rest : List ℕ) : Type 0 where
  pub done : List ℕ
  pub all : done ++ rest ≡ whole
  pub put : Puts start now done

pub begins : (start : Place) (whole rest : List ℕ) → rest ≡ whole → IsOn start start whole rest
begins start whole rest same = record { done = []; all = same; put = nothing start }

pub goes_on : {start now next : Place} {whole rest text : List ℕ} (more : List ℕ) → IsOn start now whole rest
    → Puts now next text → rest ≡ text ++ more → IsOn start next whole more
goes_on {text = text} more on put same = record {
  done = on.done ++ text;
  all = append_assoc on.done text more ∙ ap (λ ys. on.done ++ ys) (sym same) ∙ on.all;
  put = and_then on.put put;
}

pub ends : {start now : Place} {whole rest : List ℕ} → IsOn start now whole rest → rest ≡ [] → Puts start now whole
ends {start = start} {now = now} on none =
    subst (λ t. Puts start now t) (sym (append-nil on.done) ∙ ap (λ ys. on.done ++ ys) (sym none) ∙ on.all) on.put

-- a whole text was put from an empty page on
taken_whole : (w v : Option (List ℕ)) (h rest text : List ℕ) → Takes w v h rest text → h ≡ [] → rest ≡ []
    → IfSome w (λ xs. v ≡ Some (xs ++ text))
taken_whole None v h rest text takes empty flushed = tt
taken_whole (Some xs) v h rest text (s, is, has) empty flushed = is
    ∙ ap (λ ys. Some (xs ++ ys)) (sym (append-nil s) ∙ ap (λ r. s ++ r) (sym flushed) ∙ has ∙ ap (λ g. g ++ text) empty)

taken_front : (w v : Option (List ℕ)) (h rest text : List ℕ) → Takes w v h rest text → h ≡ []
    → IfSome w (λ xs. (k : ℕ) × (v ≡ Some (xs ++ take k text)))
taken_front None v h rest text takes empty = tt
taken_front (Some xs) v h rest text (s, is, has) empty = (
  length s,
  is ∙ ap (λ ys. Some (xs ++ ys))
      (sym (take-append_seam s rest) ∙ ap (λ t. take (length s) t) (has ∙ ap (λ g. g ++ text) empty)),
)

pub whole_ok : (o n : Place) (text : List ℕ) → Puts o n text → o.failed ≡ false → n.failed ≡ false → o.held ≡ []
    → n.held ≡ [] → IfSome o.written (λ xs. n.written ≡ Some (xs ++ text))
whole_ok o n text put fresh fine empty flushed = taken_whole _ _ _ _ text
    (subst (λ x. IsPut x false o n text) fresh (subst (λ y. IsPut o.failed y o n text) fine put.bytes)) empty flushed

pub whole_err : (o n : Place) (text : List ℕ) → Puts o n text → o.failed ≡ false → n.failed ≡ true → o.held ≡ []
    → IfSome o.written (λ xs. (k : ℕ) × (n.written ≡ Some (xs ++ take k text))) × HasRisen o.faults n.faults
whole_err o n text put fresh broken empty =
    let lost : IsPut false true o n text = subst (λ x. IsPut x true o n text) fresh
    (subst (λ y. IsPut o.failed y o n text) broken put.bytes) in
    (taken_front _ _ _ _ text lost.0.1 empty, lost.1)
