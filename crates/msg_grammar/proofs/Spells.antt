-- Each message has one spelling.
use Rattle.std.proofs.Common.{◌≡◌, ℕ, ◌+◌, ◌-◌, ◌<◌, ◌≤◌, ◌↔◌, Bool, true, false, ◌&&◌, cond, List, [], ◌∷◌, ◌++◌}
use Rattle.std.proofs.Common.{length, Some, None, refl, ap, subst, ◌∙◌, arith}
use Rattle.std.specs.Prelude.{option_map, ◌==◌}
use Rattle.std.proofs.lemmas.Bool.Decides.{nat_tests}
use Rattle.bus_trace.specs.declared.agreements.Agreement.{Agreement}
use Rattle.bus_trace.proofs.Devices.{below_8}
use Rattle.msg_grammar.specs.declared.message.MsgOut.{MsgOut}
use Rattle.msg_grammar.specs.declared.message.MsgOut.TheVariants as to_target
use Rattle.msg_grammar.specs.declared.message.MsgIn.{MsgIn}
use Rattle.msg_grammar.specs.declared.message.MsgIn.TheVariants as to_initiator
use Rattle.msg_grammar.specs.Grammar.{Form, alone, tagged, extended, reserved, msg_after, msg_by}
use Rattle.msg_grammar.specs.declared.message.Got.TheVariants.{Whole}
use Rattle.msg_grammar.specs.Messages.{is_of_eight, form_out, msg_out_of, got_out, FitsOut, out_bytes, form_in}
use Rattle.msg_grammar.specs.Messages.{msg_in_of, got_in, FitsIn, in_bytes}
use Rattle.msg_grammar.proofs.Again.{again}
use Rattle.std.proofs.lemmas.Bool.{eqb-true}

of_eight : (first b : ℕ) → is_of_eight first b ≡ true → (first ≤ b) × (b < first + 8)
of_eight first b e =
    let low : first ≤ b = grind (arith, nat_tests) in
    let high : b < first + 8 = grind (arith, nat_tests) in
    (low, high)

module _ {M : Type 0} (spelling : M → List ℕ) (fits : M → Type 0) where
  -- each message whose first byte has this form is spelled so, and fits
  abbrev pub IsSpelled : ℕ → Form M → Type 0
  IsSpelled first (alone m) = (first ∷ [] ≡ spelling m) × fits m
  IsSpelled first (tagged f) = (tag : ℕ) → (first ∷ tag ∷ [] ≡ spelling (f tag)) × fits (f tag)
  IsSpelled first (extended f) =
      (o : Agreement) → (first ∷ 0x03 ∷ 0x01 ∷ o.period ∷ o.offset ∷ [] ≡ spelling (f o)) × fits (f o)
  IsSpelled first reserved = Unit {0}

  taken : (k m : M) (bytes : List ℕ) → k ≡ m → (bytes ≡ spelling k) × fits k → (bytes ≡ spelling m) × fits m
  taken k m bytes e s = subst (λ (x : M). (bytes ≡ spelling x) × fits x) e s

  offered : (len code : Bool) (f : Agreement → M) (o : Agreement) (m : M)
      → option_map f (cond (len && code) (Some o) None) ≡ Some m → (len ≡ true) × (code ≡ true) × (f o ≡ m)
  offered true true f o m e = (refl, refl, cc)
  offered true false f o m e = absurd cc
  offered false code f o m e = absurd cc

  after_spelled : (first : ℕ) (form : Form M) → IsSpelled first form → (bytes : List ℕ) (m : M)
      → msg_after form bytes ≡ Some m → (first ∷ bytes ≡ spelling m) × fits m
  after_spelled first (alone k) s [] m e = taken k m (first ∷ []) (cc) s
  after_spelled first (alone k) s (b ∷ bytes) m e = absurd cc
  after_spelled first (tagged f) s [] m e = absurd cc
  after_spelled first (tagged f) s (tag ∷ []) m e = taken (f tag) m (first ∷ tag ∷ []) (cc) (s tag)
  after_spelled first (tagged f) s (tag ∷ b ∷ bytes) m e = absurd cc
  after_spelled first (extended f) s [] m e = absurd cc
  after_spelled first (extended f) s (len ∷ []) m e = absurd cc
  after_spelled first (extended f) s (len ∷ code ∷ []) m e = absurd cc
  after_spelled first (extended f) s (len ∷ code ∷ period ∷ []) m e = absurd cc
  after_spelled first (extended f) s (len ∷ code ∷ period ∷ offset ∷ []) m e =
      let o : Agreement = record { period = period; offset = offset } in
      let h = offered (len == 0x03) (code == 0x01) f o m e in
      let t = taken (f o) m (first ∷ 0x03 ∷ 0x01 ∷ period ∷ offset ∷ []) h.2 (s o) in
      let l = eqb-true len 0x03 h.0 in
      let c = eqb-true code 0x01 h.1 in
      ((λ i. first ∷ l i ∷ c i ∷ period ∷ offset ∷ []) ∙ t.0, t.1)
  after_spelled first (extended f) s (len ∷ code ∷ period ∷ offset ∷ b ∷ bytes) m e = absurd cc
  after_spelled first reserved s bytes m e = absurd cc

  -- each message is spelled so, and fits
  spelled : (form : ℕ → Form M) → ((b : ℕ) → IsSpelled b (form b)) → (bytes : List ℕ) (m : M)
      → msg_by form bytes ≡ Some m → (bytes ≡ spelling m) × fits m
  spelled form h [] m e = absurd cc
  spelled form h (first ∷ bytes) m e = after_spelled first (form first) (h first) bytes m e

-- a row of a table of first bytes, and those after it
row : {M : Type 0} → (P : Form M → Type 0) (t : Bool) (x y : Form M) → (t ≡ true → P x) → P y → P (cond t x y)
row P true x y f p = f refl
row P false x y f p = p

one : (b n : ℕ) → (b == n) ≡ true → b ∷ [] ≡ n ∷ []
one b n e = ap (λ (x : ℕ). x ∷ []) (eqb-true b n e)

two : (b n tag : ℕ) → (b == n) ≡ true → b ∷ tag ∷ [] ≡ n ∷ tag ∷ []
two b n tag e = ap (λ (x : ℕ). x ∷ tag ∷ []) (eqb-true b n e)

five : (b n : ℕ) (bytes : List ℕ) → (b == n) ≡ true → b ∷ bytes ≡ n ∷ bytes
five b n bytes e = ap (λ (x : ℕ). x ∷ bytes) (eqb-true b n e)

eight : (b first : ℕ) → is_of_eight first b ≡ true → (b ∷ [] ≡ (first + (b - first)) ∷ []) × (b - first < 8)
eight b first e =
    let h = of_eight first b e in
    let same : b ≡ first + (b - first) = let low = h.0 in omega arith in
    let high = h.1 in
    (ap (λ (x : ℕ). x ∷ []) same, omega arith)

out_spelled : (b : ℕ) → IsSpelled out_bytes FitsOut b (form_out b)
unfolding form_out
out_spelled b =
    let P : Form MsgOut → Type 0 = λ f. IsSpelled out_bytes FitsOut b f in
    row P (b == 0x01) _ _ (λ e o. (five b 0x01 _ e, tt))
    (row P (b == 0x05) _ _ (λ e. (one b 0x05 e, tt))
    (row P (b == 0x06) _ _ (λ e. (one b 0x06 e, tt))
    (row P (b == 0x07) _ _ (λ e. (one b 0x07 e, tt))
    (row P (b == 0x08) _ _ (λ e. (one b 0x08 e, tt))
    (row P (b == 0x09) _ _ (λ e. (one b 0x09 e, tt))
    (row P (b == 0x0c) _ _ (λ e. (one b 0x0c e, tt))
    (row P (b == 0x0d) _ _ (λ e. (one b 0x0d e, tt))
    (row P (b == 0x0e) _ _ (λ e. (one b 0x0e e, tt))
    (row P (b == 0x20) _ _ (λ e tag. (two b 0x20 tag e, tt))
    (row P (b == 0x21) _ _ (λ e tag. (two b 0x21 tag e, tt))
    (row P (b == 0x22) _ _ (λ e tag. (two b 0x22 tag e, tt))
    (row P (is_of_eight 0x80 b) _ _ (λ e. eight b 0x80 e)
    (row P (is_of_eight 0xc0 b) _ _ (λ e. eight b 0xc0 e)
    tt)))))))))))))

in_spelled : (b : ℕ) → IsSpelled in_bytes FitsIn b (form_in b)
unfolding form_in
in_spelled b =
    let P : Form MsgIn → Type 0 = λ f. IsSpelled in_bytes FitsIn b f in
    row P (b == 0x00) _ _ (λ e. (one b 0x00 e, tt))
    (row P (b == 0x01) _ _ (λ e o. (five b 0x01 _ e, tt))
    (row P (b == 0x02) _ _ (λ e. (one b 0x02 e, tt))
    (row P (b == 0x03) _ _ (λ e. (one b 0x03 e, tt))
    (row P (b == 0x04) _ _ (λ e. (one b 0x04 e, tt))
    (row P (b == 0x07) _ _ (λ e. (one b 0x07 e, tt))
    (row P (b == 0x20) _ _ (λ e tag. (two b 0x20 tag e, tt))
    (row P (is_of_eight 0x80 b) _ _ (λ e. eight b 0x80 e)
    tt)))))))

-- ---- and what is spelled so is that message

out_reads : (m : MsgOut) → FitsOut m → msg_out_of (out_bytes m) ≡ Some m
unfolding form_out
out_reads (to_target.Identify false lun) h = below_8 (λ n. msg_out_of ((0x80 + n) ∷ [])
    ≡ Some (to_target.Identify false n)) refl refl refl refl refl refl refl refl lun h
out_reads (to_target.Identify true lun) h = below_8
    (λ n. msg_out_of ((0xc0 + n) ∷ []) ≡ Some (to_target.Identify true n)) refl refl refl refl refl refl refl refl lun h
out_reads _ h = refl

in_reads : (m : MsgIn) → FitsIn m → msg_in_of (in_bytes m) ≡ Some m
unfolding form_in
in_reads (to_initiator.Identify lun) h = below_8
    (λ n. msg_in_of ((0x80 + n) ∷ []) ≡ Some (to_initiator.Identify n)) refl refl refl refl refl refl refl refl lun h
in_reads _ h = refl

pub out_one : (bytes : List ℕ) (m : MsgOut) → (msg_out_of bytes ≡ Some m) ↔ ((bytes ≡ out_bytes m) × FitsOut m)
out_one bytes m = (
  spelled out_bytes FitsOut form_out out_spelled bytes m,
  λ h. ap (λ (x : List ℕ). msg_out_of x) h.0 ∙ out_reads m h.1,
)

pub in_one : (bytes : List ℕ) (m : MsgIn) → (msg_in_of bytes ≡ Some m) ↔ ((bytes ≡ in_bytes m) × FitsIn m)
in_one bytes m =
    (spelled in_bytes FitsIn form_in in_spelled bytes m, λ h. ap (λ (x : List ℕ). msg_in_of x) h.0 ∙ in_reads m h.1)

-- which reads back, whatever follows
pub out_again : (m : MsgOut) (rest : List ℕ) → FitsOut m
    → got_out (out_bytes m ++ rest) ≡ Whole m (length (out_bytes m))
out_again m rest h = again form_out (out_bytes m) rest m (out_reads m h)

pub in_again : (m : MsgIn) (rest : List ℕ) → FitsIn m → got_in (in_bytes m ++ rest) ≡ Whole m (length (in_bytes m))
in_again m rest h = again form_in (in_bytes m) rest m (in_reads m h)
