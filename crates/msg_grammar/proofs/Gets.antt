-- What bytes begin with is right by the messages: a whole message stands there, or more bytes make one,
-- or none ever begins so.
use Rattle.std.proofs.Common.{◌≡◌, ℕ, zero, suc, ◌<◌, Bool, true, false, ◌&&◌, cond, List, [], ◌∷◌, ◌++◌, take, Option}
use Rattle.std.proofs.Common.{Some, None, refl, ap, ◌∙◌, arith}
use Rattle.std.specs.Prelude.{option_map, ◌==◌}
use Rattle.bus_trace.specs.declared.agreements.Agreement.{Agreement}
use Rattle.msg_grammar.specs.declared.message.Got.{Got}
use Rattle.msg_grammar.specs.declared.message.Got.TheVariants.{Whole, More, Unknown}
use Rattle.msg_grammar.specs.Grammar.{Form, alone, tagged, extended, reserved, offer_of, as_got, got_code, got_fields}
use Rattle.msg_grammar.specs.Grammar.{msg_after, msg_by, got_after, got_by, Begins, GoesOn, NeverBegins}
use Rattle.bus_base.proofs.Tests.{and_false}

-- The answer is right.
abbrev pub IsRight : {M : Type 0} → (List ℕ → Option M) → List ℕ → Got M → Type 0
IsRight message bytes (Whole m n) = Begins message bytes m n
IsRight message bytes More = GoesOn message bytes
IsRight message bytes Unknown = NeverBegins message bytes

-- ---- what is offered

abbrev offer : ℕ → ℕ → Agreement
offer period offset = record { period = period; offset = offset }

is_offer : (len code period offset : ℕ) → (len == 0x03) ≡ true → (code == 0x01) ≡ true
    → offer_of (len ∷ code ∷ period ∷ offset ∷ []) ≡ Some (offer period offset)
is_offer len code period offset l c = λ i. cond (l i && c i) (Some (offer period offset)) None

no_len : (len : ℕ) (bytes : List ℕ) → (len == 0x03) ≡ false → offer_of (len ∷ bytes) ≡ None
no_len len [] l = refl
no_len len (code ∷ []) l = refl
no_len len (code ∷ period ∷ []) l = refl
no_len len (code ∷ period ∷ offset ∷ []) l = λ i. cond (l i && code == 0x01) (Some (offer period offset)) None
no_len len (code ∷ period ∷ offset ∷ b ∷ bytes) l = refl

no_code : (len code : ℕ) (bytes : List ℕ) → (code == 0x01) ≡ false → offer_of (len ∷ code ∷ bytes) ≡ None
no_code len code [] c = refl
no_code len code (period ∷ []) c = refl
no_code len code (period ∷ offset ∷ []) c = (λ i. cond (len == 0x03 && c i) (Some (offer period offset)) None)
    ∙ ap (λ (b : Bool). cond b (Some (offer period offset)) None) (and_false (len == 0x03))
no_code len code (period ∷ offset ∷ b ∷ bytes) c = refl

no_len-front : (len : ℕ) (bytes : List ℕ) (n : ℕ) → (len == 0x03) ≡ false → offer_of (take n (len ∷ bytes)) ≡ None
no_len-front len bytes zero l = refl
no_len-front len bytes (suc n) l = no_len len (take n bytes) l

no_code-front : (len code : ℕ) (bytes : List ℕ) (n : ℕ) → (code == 0x01) ≡ false
    → offer_of (take n (len ∷ code ∷ bytes)) ≡ None
no_code-front len code bytes zero c = refl
no_code-front len code bytes (suc zero) c = refl
no_code-front len code bytes (suc (suc n)) c = no_code len code (take n bytes) c

-- ---- by the form of the first byte

module _ {M : Type 0} (form : ℕ → Form M) (first : ℕ) where
  -- all bytes after the first one, where its form is known
  after : (f : Form M) → form first ≡ f → (bytes : List ℕ) → msg_by form (first ∷ bytes) ≡ msg_after f bytes
  after f e bytes = ap (λ (g : Form M). msg_after g bytes) e

  -- nothing begins so
  never : (f : Form M) → form first ≡ f
      → (bytes : List ℕ) → ((more : List ℕ) (n : ℕ) → msg_after f (take n (bytes ++ more)) ≡ None)
      → NeverBegins (msg_by form) (first ∷ bytes)
  never f e bytes h more zero = refl
  never f e bytes h more (suc n) = after f e (take n (bytes ++ more)) ∙ h more n

  offer_right : (f : Agreement → M) → form first ≡ extended f → (len code period offset : ℕ) → (len == 0x03) ≡ true
      → (code == 0x01) ≡ true → msg_by form (first ∷ len ∷ code ∷ period ∷ offset ∷ []) ≡ Some (f (offer period offset))
  offer_right f e len code period offset l c = after (extended f) e (len ∷ code ∷ period ∷ offset ∷ [])
      ∙ ap (λ (o : Option Agreement). option_map f o) (is_offer len code period offset l c)

  fields_right : (f : Agreement → M) → form first ≡ extended f → (len code : ℕ) (bytes : List ℕ) → (len == 0x03) ≡ true
      → (code == 0x01) ≡ true → IsRight (msg_by form) (first ∷ len ∷ code ∷ bytes) (as_got f (got_fields bytes))
  fields_right f e len code [] l c =
      (0 ∷ 0 ∷ [], f (offer 0 0), omega arith, (omega arith, (omega arith, tt)), offer_right f e len code 0 0 l c)
  fields_right f e len code (period ∷ []) l c =
      (0 ∷ [], f (offer period 0), omega arith, (omega arith, tt), offer_right f e len code period 0 l c)
  fields_right f e len code (period ∷ offset ∷ bytes) l c = (omega arith, offer_right f e len code period offset l c)

  code_right : (f : Agreement → M) → form first ≡ extended f → (len code : ℕ) (bytes : List ℕ)
      → (len == 0x03) ≡ true → (t : Bool) → (code == 0x01) ≡ t
      → IsRight (msg_by form) (first ∷ len ∷ code ∷ bytes) (as_got f (cond t (got_fields bytes) Unknown))
  code_right f e len code bytes l true c = fields_right f e len code bytes l c
  code_right f e len code bytes l false c = never (extended f) e (len ∷ code ∷ bytes)
      (λ more n. ap (λ (o : Option Agreement). option_map f o) (no_code-front len code (bytes ++ more) n c))

  after_len_right : (f : Agreement → M) → form first ≡ extended f → (len : ℕ) (bytes : List ℕ) → (len == 0x03) ≡ true
      → IsRight (msg_by form) (first ∷ len ∷ bytes) (as_got f (got_code bytes))
  after_len_right f e len [] l = (
    1 ∷ 0 ∷ 0 ∷ [],
    f (offer 0 0),
    omega arith,
    (omega arith, (omega arith, (omega arith, tt))),
    offer_right f e len 1 0 0 l refl,
  )
  after_len_right f e len (code ∷ bytes) l = code_right f e len code bytes l (code == 0x01) refl

  len_right : (f : Agreement → M) → form first ≡ extended f → (len : ℕ) (bytes : List ℕ) (t : Bool) → (len == 0x03) ≡ t
      → IsRight (msg_by form) (first ∷ len ∷ bytes) (as_got f (cond t (got_code bytes) Unknown))
  len_right f e len bytes true l = after_len_right f e len bytes l
  len_right f e len bytes false l = never (extended f) e (len ∷ bytes)
      (λ more n. ap (λ (o : Option Agreement). option_map f o) (no_len-front len (bytes ++ more) n l))

  after_right : (f : Form M) → form first ≡ f
      → (bytes : List ℕ) → IsRight (msg_by form) (first ∷ bytes) (got_after f bytes)
  after_right (alone m) e bytes = (omega arith, after (alone m) e [])
  after_right (tagged f) e [] = (0 ∷ [], f 0, omega arith, (omega arith, tt), after (tagged f) e (0 ∷ []))
  after_right (tagged f) e (tag ∷ bytes) = (omega arith, after (tagged f) e (tag ∷ []))
  after_right (extended f) e [] = (
    3 ∷ 1 ∷ 0 ∷ 0 ∷ [],
    f (offer 0 0),
    omega arith,
    (omega arith, (omega arith, (omega arith, (omega arith, tt)))),
    offer_right f e 3 1 0 0 refl refl,
  )
  after_right (extended f) e (len ∷ bytes) = len_right f e len bytes (len == 0x03) refl
  after_right reserved e bytes = never reserved e bytes (λ more n. refl)

-- Whatever the bytes, the answer is right, where there is a message of one byte.
pub right : {M : Type 0} → (form : ℕ → Form M) (b : ℕ) (m : M) → b < 256 → form b ≡ alone m
    → (bytes : List ℕ) → IsRight (msg_by form) bytes (got_by form bytes)
right form b m small e [] = (b ∷ [], m, omega arith, (small, tt), after form b (alone m) e [])
right form b m small e (first ∷ bytes) = after_right form first (form first) refl bytes
