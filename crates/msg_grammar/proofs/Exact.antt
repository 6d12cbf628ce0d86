-- Each answer comes exactly where it is right.
use Rattle.std.proofs.Common.{◌≡◌, ℕ, ◌<◌, ◌↔◌, List, [], ◌++◌, length, take, drop, Option, Some, None, refl, sym, ap}
use Rattle.std.proofs.Common.{subst, ◌∙◌, arith, length-append}
use Rattle.std.proofs.lemmas.List.{length-take-le, take-append-drop, take-append-le, take_all}
use Rattle.msg_grammar.specs.declared.message.Got.{Got}
use Rattle.msg_grammar.specs.declared.message.Got.TheVariants.{Whole, More, Unknown}
use Rattle.msg_grammar.specs.Grammar.{Form, alone, msg_by, got_by, Begins, GoesOn, NeverBegins}
use Rattle.msg_grammar.proofs.Again.{again}
use Rattle.msg_grammar.proofs.Gets.{IsRight, right}

module _ {M : Type 0} (form : ℕ → Form M) where
  -- a message at the front is got
  front_got : (bytes : List ℕ) (m : M) (n : ℕ) → Begins (msg_by form) bytes m n → got_by form bytes ≡ Whole m n
  front_got bytes m n h = ap (λ (x : List ℕ). got_by form x) (sym (take-append-drop n bytes))
      ∙ (again form (take n bytes) (drop n bytes) m h.1 ∙ ap (λ (k : ℕ). Whole m k) (length-take-le n bytes h.0))

  -- and stands at the front whatever follows
  longer : (bytes more : List ℕ) (m : M) (n : ℕ) → Begins (msg_by form) bytes m n
      → Begins (msg_by form) (bytes ++ more) m n
  longer bytes more m n h =
      let e : take n (bytes ++ more) ≡ take n bytes = take-append-le n bytes more h.0 in
      let short = h.0 in
      (omega (arith, length-append bytes more), ap (λ (x : List ℕ). msg_by form x) e ∙ h.1)

  -- all bytes of a message are its front
  all_begins : (bytes : List ℕ) (m : M) → msg_by form bytes ≡ Some m → Begins (msg_by form) bytes m (length bytes)
  all_begins bytes m e =
      (omega arith, ap (λ (x : List ℕ). msg_by form x) (take_all (length bytes) bytes (omega arith)) ∙ e)

  -- what goes on is no whole message
  not_whole : (bytes : List ℕ) (m : M) (n : ℕ) → Begins (msg_by form) bytes m n → GoesOn (msg_by form) bytes → ⊥
  not_whole bytes m n b (more, k, some, _, e) =
      let one = front_got (bytes ++ more) m n (longer bytes more m n b) in
      let two = front_got (bytes ++ more) k (length (bytes ++ more)) (all_begins (bytes ++ more) k e) in
      let both : ◌≡◌ {A = Got M} (Whole m n) (Whole k (length (bytes ++ more))) = sym one ∙ two in
      let same : n ≡ length (bytes ++ more) = cc both in
      let short = b.0 in
      omega (arith, length-append bytes more)

  -- what never begins a message is none
  never_whole : (bytes : List ℕ) (m : M) (n : ℕ) → Begins (msg_by form) bytes m n → NeverBegins (msg_by form) bytes → ⊥
  never_whole bytes m n b h =
      let e : take n (bytes ++ []) ≡ take n bytes = take-append-le n bytes [] b.0 in
      let none : ◌≡◌ {A = Option M} None (Some m) = sym (h [] n) ∙ (ap (λ (x : List ℕ). msg_by form x) e ∙ b.1) in
      cc none

  -- nor does it go on
  never_goes_on : (bytes : List ℕ) → GoesOn (msg_by form) bytes → NeverBegins (msg_by form) bytes → ⊥
  never_goes_on bytes (more, k, some, _, e) h =
      let all = all_begins (bytes ++ more) k e in
      let none : ◌≡◌ {A = Option M} None (Some k) = sym (h more (length (bytes ++ more))) ∙ all.1 in
      cc none

  module _ (b : ℕ) (m : M) (small : b < 256) (e : form b ≡ alone m) where
    -- the answer, once it is known, is right
    known_right : (bytes : List ℕ) (r : Got M) → got_by form bytes ≡ r → IsRight (msg_by form) bytes r
    known_right bytes r g = subst (λ (x : Got M). IsRight (msg_by form) bytes x) g (right form b m small e bytes)

    pub whole : (bytes : List ℕ) (k : M) (n : ℕ) → (got_by form bytes ≡ Whole k n) ↔ Begins (msg_by form) bytes k n
    whole bytes k n = (known_right bytes (Whole k n), front_got bytes k n)

    more_from : (bytes : List ℕ) (r : Got M) → got_by form bytes ≡ r → GoesOn (msg_by form) bytes
        → got_by form bytes ≡ More
    more_from bytes (Whole k n) g h = absurd (not_whole bytes k n (known_right bytes (Whole k n) g) h)
    more_from bytes More g h = g
    more_from bytes Unknown g h = absurd (never_goes_on bytes h (known_right bytes Unknown g))

    pub more : (bytes : List ℕ) → (got_by form bytes ≡ More) ↔ GoesOn (msg_by form) bytes
    more bytes = (known_right bytes More, more_from bytes (got_by form bytes) refl)

    unknown_from : (bytes : List ℕ) (r : Got M) → got_by form bytes ≡ r → NeverBegins (msg_by form) bytes
        → got_by form bytes ≡ Unknown
    unknown_from bytes (Whole k n) g h = absurd (never_whole bytes k n (known_right bytes (Whole k n) g) h)
    unknown_from bytes More g h = absurd (never_goes_on bytes (known_right bytes More g) h)
    unknown_from bytes Unknown g h = g

    pub unknown : (bytes : List ℕ) → (got_by form bytes ≡ Unknown) ↔ NeverBegins (msg_by form) bytes
    unknown bytes = (known_right bytes Unknown, unknown_from bytes (got_by form bytes) refl)
