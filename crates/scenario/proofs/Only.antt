-- What is read has one spelling: parts and lines.
use Rattle.std.proofs.Common.{◌≡◌, ℕ, ◌<◌, Bool, true, false, List, [], ◌∷◌, ◌++◌, length, Option, Some, None, refl}
use Rattle.std.proofs.Common.{sym, ap, subst, ◌∙◌, arith, inl, inr, ◌⊎◌, append_assoc}
use Rattle.std.specs.Prelude.{codes, slice_index, take, drop, ◌==◌, ◌||◌, ◌%◌}
use Rattle.std.specs.List.{prefix_len}
use Rattle.std.proofs.lemmas.Bool.Decides.{nat_tests}
use Rattle.std.proofs.lemmas.List.Folds.{length-prefix_len}
use Rattle.std.proofs.lemmas.List.{append-nil}
use Rattle.bus_base.specs.declared.events.Pick.{Pick}
use Rattle.bus_base.specs.declared.events.Pick.TheVariants as picks
use Rattle.text_words.specs.Words.{Number, ◌>>=◌, after, number_at, hex_digits_at, hex_array_at, bytes_of, is_hex}
use Rattle.text_words.specs.Words.{is_whole}
use Rattle.text_words.specs.Spelling.{number_text, hex_text, byte_text, AreBytes}
use Rattle.text_words.proofs.Only.{bind_some, cond_none, after_only, number_only, whole_only, hex_only, hex_array_only}
use Rattle.scenario.specs.declared.form.PolicyForm.{PolicyForm}
use Rattle.scenario.specs.declared.form.PolicyForm.TheVariants as policies
use Rattle.scenario.specs.declared.form.TagForm.{TagForm}
use Rattle.scenario.specs.declared.form.TagForm.TheVariants as tags
use Rattle.scenario.specs.declared.form.WhatForm.{WhatForm}
use Rattle.scenario.specs.declared.form.WhatForm.TheVariants as whats
use Rattle.scenario.specs.declared.form.TargetForm.{TargetForm}
use Rattle.scenario.specs.Parts.{or, numbered_at, made, plain, exactly_at, yes_no_at, flag_at, policy_at, pick_at}
use Rattle.scenario.specs.Parts.{tag_at, PayloadSaid, no_bytes, these_bytes, bytes_from, nothing_at, hex_at, from_at}
use Rattle.scenario.specs.Parts.{payload_at, what_tag_at, what_at, ObjectSaid, block_object, mark_object, mark_at}
use Rattle.scenario.specs.Parts.{block_at, object_at}
use Rattle.scenario.specs.Forms.{Said, scsi_line, initiator_line, target_line, unit_line, fill_line, tape_line}
use Rattle.scenario.specs.Forms.{load_line, tape_at, load_at, cmd_line, abort_line, reset_line, fault_line, end_line}
use Rattle.scenario.specs.Forms.{scsi_at, initiator_at, target_at}
use Rattle.scenario.specs.Forms.{unit_at, fill_at, cmd_at, abort_at, reset_at, fault_at, end_at, declared_at}
use Rattle.scenario.specs.Forms.{happens_at, form_of}
use Rattle.scenario.specs.Writing.{numbered, yes_no_text, flag_text, policy_text, pick_text, tag_text, payload_text}
use Rattle.scenario.specs.Writing.{what_text, host_sync_text, initiator_text, target_seek_text, target_disc_text}
use Rattle.scenario.specs.Writing.{target_text, unit_text, fill_text, cmd_tag_text, cmd_text, abort_text, reset_text}
use Rattle.scenario.specs.Writing.{fault_text, object_text, tape_text, load_text, said_text, IsHex}
use Rattle.scenario.proofs.PartsAgain.{IsSmall, IsSmallPolicy, IsSmallTag, IsSpelledPayload, IsSmallWhat}
use Rattle.scenario.proofs.PartsAgain.{IsSpelledObject}
use Rattle.scenario.proofs.FormsAgain.{IsSpelled}
use Rattle.scenario.proofs.Lawful.{CanSay}

-- ---- parts

or_some : {A : Type 0} (o p : Option A) (x : A) → or o p ≡ Some x → (o ≡ Some x) ⊎ (p ≡ Some x)
or_some None p x e = inr e
or_some (Some y) p x e = inl e

some_is : {A : Type 0} (x y : A) → ◌≡◌ {A = Option A} (Some x) (Some y) → x ≡ y
some_is x y e = cc

number_text_only : (bytes : List ℕ) (u : Number) (rest : List ℕ) → number_at bytes ≡ Some (u, rest) → IsSmall u
    → bytes ≡ number_text u ++ rest
number_text_only bytes None rest e h = absurd h
number_text_only bytes (Some n) rest e h = (number_only bytes n rest e).1

numbered_only : (text bytes : List ℕ) (u : Number) (rest : List ℕ) → numbered_at text bytes ≡ Some (u, rest) → IsSmall u
    → bytes ≡ numbered text u ++ rest
unfolding numbered_at
numbered_only text bytes u rest e h =
    let a = bind_some (after text bytes) _ (u, rest) e in
    after_only text bytes a.0 a.1 ∙ (ap (λ (t : List ℕ). text ++ t) (number_text_only a.0 u rest a.2 h)
    ∙ sym (append_assoc text (number_text u) rest))

numbered_end : (text bytes : List ℕ) (u : Number) (rest : List ℕ) → numbered_at text bytes ≡ Some (u, rest) → rest ≡ []
    → IsSmall u → bytes ≡ numbered text u
numbered_end text bytes u rest e end h =
    numbered_only text bytes u rest e h ∙ (ap (λ (t : List ℕ). numbered text u ++ t) end ∙ append-nil (numbered text u))

exactly_only : (text bytes : List ℕ) (x : Unit {0}) → exactly_at text bytes ≡ Some x → bytes ≡ text
unfolding exactly_at
exactly_only text bytes x e =
    let a = bind_some (after text bytes) _ x e in
    after_only text bytes a.0 a.1 ∙ (ap (λ (t : List ℕ). text ++ t) (whole_only a.0 a.2) ∙ append-nil text)

-- A word that stands for this, at the end of a line.
word_only : {A : Type 0} (text bytes : List ℕ) (x y : A) → (exactly_at text bytes >>= λ _. Some x) ≡ Some y
    → (x ≡ y) × (bytes ≡ text)
word_only text bytes x y e =
    let a = bind_some (exactly_at text bytes) (λ _. Some x) y e in
    (some_is x y a.2, exactly_only text bytes a.0 a.1)

plain_only : {A : Type 0} (x : A) (text bytes : List ℕ) (y : A) (rest : List ℕ)
    → plain x (after text bytes) ≡ Some (y, rest) → (x ≡ y) × (bytes ≡ text ++ rest)
plain_only {A = A} x text bytes y rest e =
    let a = bind_some (after text bytes) (λ r. Some (x, r)) (y, rest) e in
    let same = some_is (x, a.0) (y, rest) a.2 in
    (ap (λ (p : A × List ℕ). p.0) same, after_only text bytes a.0 a.1 ∙ ap (λ (p : A × List ℕ). text ++ p.1) same)

record IsMade {A : Type 0} (f : Number → A) (text bytes : List ℕ) (y : A) (rest : List ℕ) : Type 0 where
  number : Number
  same : f number ≡ y
  text-is : IsSmall number → bytes ≡ numbered text number ++ rest

made_only : {A : Type 0} (f : Number → A) (text bytes : List ℕ) (y : A) (rest : List ℕ)
    → made f (numbered_at text bytes) ≡ Some (y, rest) → IsMade f text bytes y rest
made_only {A = A} f text bytes y rest e =
    let a = bind_some (numbered_at text bytes) (λ n. Some (f n.0, n.1)) (y, rest) e in
    let same = some_is (f (a.0).0, (a.0).1) (y, rest) a.2 in
    record {
      number = (a.0).0;
      same = ap (λ (p : A × List ℕ). p.0) same;
      text-is = λ h. numbered_only text bytes (a.0).0 (a.0).1 a.1 h
          ∙ ap (λ (p : A × List ℕ). numbered text (a.0).0 ++ p.1) same;
    }

yes_no_only : (bytes : List ℕ) (b : Bool) → yes_no_at bytes ≡ Some b → bytes ≡ yes_no_text b
unfolding yes_no_at
yes_no_only bytes b e = elim (or_some (exactly_at (codes "yes") bytes >>= λ _. Some true) _ b e) [
  | inl a ↦ let q = word_only (codes "yes") bytes true b a in subst (λ (x : Bool). bytes ≡ yes_no_text x) q.0 q.1
  | inr a ↦ let q = word_only (codes "no") bytes false b a in subst (λ (x : Bool). bytes ≡ yes_no_text x) q.0 q.1
]

flag_only : (text bytes : List ℕ) (o : Option Bool) → flag_at text bytes ≡ Some o → bytes ≡ flag_text text o
unfolding flag_at
flag_only text [] o e = subst (λ (x : Option Bool). [] ≡ flag_text text x) (some_is None o e) refl
flag_only text (c ∷ bytes) o e =
    let a = bind_some (after text (c ∷ bytes)) _ o e in
    let b = bind_some (yes_no_at a.0) _ o a.2 in
    subst (λ (x : Option Bool). (c ∷ bytes) ≡ flag_text text x) (some_is (Some b.0) o b.2)
    (after_only text (c ∷ bytes) a.0 a.1 ∙ ap (λ (t : List ℕ). text ++ t) (yes_no_only a.0 b.0 b.1))

policy_only : (bytes : List ℕ) (p : PolicyForm) (rest : List ℕ) → policy_at bytes ≡ Some (p, rest) → IsSmallPolicy p
    → bytes ≡ policy_text p ++ rest
unfolding policy_at
policy_only bytes p rest e h =
    let is : PolicyForm → Type 0 = λ x. bytes ≡ policy_text x ++ rest in
    elim (or_some (plain policies.Never (after (codes "never") bytes)) _ (p, rest) e) [
      | inl a ↦ let q = plain_only policies.Never (codes "never") bytes p rest a in subst is q.0 q.1
      | inr f ↦ elim (or_some (plain policies.Command (after (codes "command") bytes)) _ (p, rest) f) [
        | inl a ↦ let q = plain_only policies.Command (codes "command") bytes p rest a in subst is q.0 q.1
        | inr g ↦ elim (or_some (made policies.Burst (numbered_at (codes "burst ") bytes)) _ (p, rest) g) [
          | inl a ↦
              let q = made_only policies.Burst (codes "burst ") bytes p rest a in
              subst is q.same (q.text-is (subst IsSmallPolicy (sym q.same) h))
          | inr a ↦
              let q = made_only policies.NoSave (codes "nosave ") bytes p rest a in
              subst is q.same (q.text-is (subst IsSmallPolicy (sym q.same) h))
        ]
      ]
    ]

pick_only : (bytes : List ℕ) (p : Pick) (rest : List ℕ) → pick_at bytes ≡ Some (p, rest) → bytes ≡ pick_text p ++ rest
unfolding pick_at
pick_only bytes p rest e =
    let is : Pick → Type 0 = λ x. bytes ≡ pick_text x ++ rest in
    elim (or_some (plain picks.First (after (codes "first") bytes)) _ (p, rest) e) [
      | inl a ↦ let q = plain_only picks.First (codes "first") bytes p rest a in subst is q.0 q.1
      | inr a ↦ let q = plain_only picks.Last (codes "last") bytes p rest a in subst is q.0 q.1
    ]

tag_only : (bytes : List ℕ) (p : TagForm) (rest : List ℕ) → tag_at bytes ≡ Some (p, rest) → IsSmallTag p
    → bytes ≡ tag_text p ++ rest
unfolding tag_at
tag_only bytes p rest e h =
    let is : TagForm → Type 0 = λ x. bytes ≡ tag_text x ++ rest in
    elim (or_some (plain tags.Untagged (after (codes "untagged") bytes)) _ (p, rest) e) [
      | inl a ↦ let q = plain_only tags.Untagged (codes "untagged") bytes p rest a in subst is q.0 q.1
      | inr f ↦ elim (or_some (made tags.Simple (numbered_at (codes "simple ") bytes)) _ (p, rest) f) [
        | inl a ↦
            let q = made_only tags.Simple (codes "simple ") bytes p rest a in
            subst is q.same (q.text-is (subst IsSmallTag (sym q.same) h))
        | inr g ↦ elim (or_some (made tags.Ordered (numbered_at (codes "ordered ") bytes)) _ (p, rest) g) [
          | inl a ↦
              let q = made_only tags.Ordered (codes "ordered ") bytes p rest a in
              subst is q.same (q.text-is (subst IsSmallTag (sym q.same) h))
          | inr a ↦
              let q = made_only tags.Head (codes "head ") bytes p rest a in
              subst is q.same (q.text-is (subst IsSmallTag (sym q.same) h))
        ]
      ]
    ]

-- Digits that run to the end of a line.
record IsHexEnd (bytes digits : List ℕ) : Type 0 where
  hex : IsHex (bytes_of digits)
  text : bytes ≡ hex_text (bytes_of digits)

not_zero : (k : ℕ) → (k == 0 || k % 2 == 1) ≡ false → k ≡ 0 → ⊥
not_zero k e z = absurd (grind (arith, nat_tests))

-- A run of digits is not empty.
no_digits : (bytes rest : List ℕ) → hex_digits_at bytes ≡ Some ([], rest) → ⊥
unfolding hex_digits_at
no_digits bytes rest e =
    let k : ℕ = prefix_len is_hex bytes in
    let p = cond_none (k == 0 || k % 2 == 1) (take k bytes, drop k bytes) ([], rest) e in
    let none : k ≡ 0 = sym (length-prefix_len is_hex bytes) ∙ ap (λ (q : List ℕ × List ℕ). length q.0) p.1 in
    not_zero k p.0 none

some_of : (ds : List ℕ) (bytes rest : List ℕ) → hex_digits_at bytes ≡ Some (ds, rest) → ds ≡ hex_text (bytes_of ds)
    → 0 < length (bytes_of ds)
some_of ds bytes rest e t = some_bytes (bytes_of ds) refl where
  some_bytes : (bs : List ℕ) → bytes_of ds ≡ bs → 0 < length bs
  some_bytes [] n =
      absurd (no_digits bytes rest (subst (λ (x : List ℕ). hex_digits_at bytes ≡ Some (x, rest)) (t ∙ ap hex_text n) e))
  some_bytes (b ∷ bs) n = omega arith

hex_end : (bytes digits rest : List ℕ) → hex_digits_at bytes ≡ Some (digits, rest) → rest ≡ [] → IsHexEnd bytes digits
hex_end bytes digits rest e end =
    let q = hex_only bytes digits rest e in
    record {
      hex = (q.1, some_of digits bytes rest e q.2);
      text = q.0 ∙ (ap (λ (t : List ℕ). digits ++ t) end ∙ (append-nil digits ∙ q.2));
    }

-- What is loaded.
record IsObjectRead (bytes : List ℕ) (o : ObjectSaid) : Type 0 where
  can : IsSpelledObject o
  text : bytes ≡ object_text o

object_only : (bytes : List ℕ) (o : ObjectSaid) → object_at bytes ≡ Some o → IsObjectRead bytes o
unfolding object_at mark_at block_at
object_only bytes o e = elim (or_some (mark_at bytes) _ o e) [
  | inl a ↦
      let q = word_only (codes "mark") bytes mark_object o a in
      subst (IsObjectRead bytes) q.0 (record { can = tt; text = q.1 })
  | inr a ↦
      let d = bind_some (hex_digits_at bytes) _ o a in
      let w = bind_some (is_whole (d.0).1) _ o d.2 in
      let x = hex_end bytes (d.0).0 (d.0).1 d.1 (whole_only (d.0).1 w.1) in
      subst (IsObjectRead bytes) (some_is (block_object (bytes_of (d.0).0)) o w.2)
      (record { can = x.hex; text = x.text })
]

-- What is sent.
record IsPayloadRead (bytes : List ℕ) (p : PayloadSaid) : Type 0 where
  can : IsSpelledPayload p
  text : bytes ≡ payload_text p

one_byte : (xs : List ℕ) → length xs ≡ 1 → AreBytes xs
    → (slice_index xs 0 < 256) × (hex_text xs ≡ byte_text (slice_index xs 0))
one_byte [] e h = absurd (omega arith)
one_byte (x ∷ []) e h = (h.0, refl)
one_byte (x ∷ y ∷ xs) e h = absurd (omega arith)

payload_only : (bytes : List ℕ) (p : PayloadSaid) → payload_at bytes ≡ Some p → IsPayloadRead bytes p
unfolding payload_at nothing_at hex_at from_at
payload_only bytes p e = elim (or_some (nothing_at bytes) _ p e) [
  | inl a ↦
      let q = word_only (codes "none") bytes no_bytes p a in
      subst (IsPayloadRead bytes) q.0 (record { can = tt; text = q.1 })
  | inr f ↦ elim (or_some (hex_at bytes) _ p f) [
    | inl a ↦
        let b = bind_some (after (codes "out hex ") bytes) _ p a in
        let d = bind_some (hex_digits_at b.0) _ p b.2 in
        let w = bind_some (is_whole (d.0).1) _ p d.2 in
        let x = hex_end b.0 (d.0).0 (d.0).1 d.1 (whole_only (d.0).1 w.1) in
        subst (IsPayloadRead bytes) (some_is (these_bytes (bytes_of (d.0).0)) p w.2) (record {
          can = x.hex;
          text = after_only (codes "out hex ") bytes b.0 b.1 ∙ ap (λ (t : List ℕ). codes "out hex " ++ t) x.text;
        })
    | inr a ↦
        let b = bind_some (after (codes "out from ") bytes) _ p a in
        let d = bind_some (hex_array_at 1 b.0) _ p b.2 in
        let w = bind_some (is_whole (d.0).1) _ p d.2 in
        let q = hex_array_only 1 b.0 (d.0).0 (d.0).1 d.1 in
        let o = one_byte (d.0).0 q.2 q.1 in
        let end = whole_only (d.0).1 w.1 in
        let t : b.0 ≡ byte_text (slice_index (d.0).0 0) = q.0
        ∙ (ap (λ (r : List ℕ). hex_text (d.0).0 ++ r) end ∙ (append-nil (hex_text (d.0).0) ∙ o.1)) in
        subst (IsPayloadRead bytes) (some_is (bytes_from (slice_index (d.0).0 0)) p w.2) (record {
          can = o.0;
          text = after_only (codes "out from ") bytes b.0 b.1 ∙ ap (λ (r : List ℕ). codes "out from " ++ r) t;
        })
  ]
]

what_only : (bytes : List ℕ) (w : WhatForm) → what_at bytes ≡ Some w → IsSmallWhat w → bytes ≡ what_text w
unfolding what_at what_tag_at
what_only bytes w e h =
    let is : WhatForm → Type 0 = λ x. bytes ≡ what_text x in
    elim (or_some (exactly_at (codes "all") bytes >>= λ _. Some whats.All) _ w e) [
      | inl a ↦ let q = word_only (codes "all") bytes whats.All w a in subst is q.0 q.1
      | inr f ↦ elim (or_some (exactly_at (codes "queue") bytes >>= λ _. Some whats.Queue) _ w f) [
        | inl a ↦ let q = word_only (codes "queue") bytes whats.Queue w a in subst is q.0 q.1
        | inr g ↦ elim (or_some (exactly_at (codes "device") bytes >>= λ _. Some whats.Device) _ w g) [
          | inl a ↦ let q = word_only (codes "device") bytes whats.Device w a in subst is q.0 q.1
          | inr a ↦
              let n = bind_some (numbered_at (codes "tag ") bytes) _ w a in
              let d = bind_some (is_whole (n.0).1) _ w n.2 in
              let same = some_is (whats.Tag (n.0).0) w d.2 in
              subst is same (numbered_end (codes "tag ") bytes (n.0).0 (n.0).1 n.1 (whole_only (n.0).1 d.1)
              (subst IsSmallWhat (sym same) h))
        ]
      ]
    ]

-- ---- lines

-- A line that is read as this can say it, and, where it has a spelling, is that spelling.
pub record IsRead (line : List ℕ) (x : Said) : Type 0 where
  pub can : CanSay x
  pub text : IsSpelled x → line ≡ said_text x

scsi_only : (line : List ℕ) (x : Said) → scsi_at line ≡ Some x → IsRead line x
unfolding scsi_at
scsi_only line x e = elim (or_some (exactly_at (codes "scsi 1") line >>= λ _. Some (scsi_line 1)) _ x e) [
  | inl a ↦
      let q = word_only (codes "scsi 1") line (scsi_line 1) x a in
      subst (IsRead line) q.0 (record { can = refl; text = λ h. q.1 })
  | inr f ↦ elim (or_some (exactly_at (codes "scsi 2") line >>= λ _. Some (scsi_line 2)) _ x f) [
    | inl a ↦
        let q = word_only (codes "scsi 2") line (scsi_line 2) x a in
        subst (IsRead line) q.0 (record { can = refl; text = λ h. q.1 })
    | inr a ↦
        let q = word_only (codes "scsi 3") line (scsi_line 3) x a in
        subst (IsRead line) q.0 (record { can = refl; text = λ h. q.1 })
  ]
]

end_only : (line : List ℕ) (x : Said) → end_at line ≡ Some x → IsRead line x
unfolding end_at
end_only line x e =
    let q = word_only (codes "end") line end_line x e in
    subst (IsRead line) q.0 (record { can = tt; text = λ h. q.1 })

initiator_only : (line : List ℕ) (x : Said) → initiator_at line ≡ Some x → IsRead line x
unfolding initiator_at initiator_text host_sync_text
initiator_only line x e =
    let a = bind_some (numbered_at (codes "initiator ") line) _ x e in
    let b = bind_some (numbered_at (codes " latency ") (a.0).1) _ x a.2 in
    let c = bind_some (numbered_at (codes " open ") (b.0).1) _ x b.2 in
    let d = bind_some (numbered_at (codes " retries ") (c.0).1) _ x c.2 in
    let p = bind_some (numbered_at (codes " sync ") (d.0).1) _ x d.2 in
    let o = bind_some (numbered_at (codes " ") (p.0).1) _ x p.2 in
    let l = bind_some (numbered_at (codes " lag ") (o.0).1) _ x o.2 in
    let y = bind_some (flag_at (codes " offers ") (l.0).1) _ x l.2 in
    subst (IsRead line) (some_is (initiator_line (record {
      device = (a.0).0;
      latency = (b.0).0;
      «open» = (c.0).0;
      retries = (d.0).0;
      period = (p.0).0;
      offset = (o.0).0;
      lag = (l.0).0;
      offers = y.0;
    })) x y.2) (record {
      can = tt;
      text = λ h.
          let t7 = flag_only (codes " offers ") (l.0).1 y.0 y.1 in
          let t6 = numbered_only (codes " lag ") (o.0).1 (l.0).0 (l.0).1 l.1 h.6
          ∙ ap (λ (t : List ℕ). numbered (codes " lag ") (l.0).0 ++ t) t7 in
          let t5 = numbered_only (codes " ") (p.0).1 (o.0).0 (o.0).1 o.1 h.5
          ∙ ap (λ (t : List ℕ). numbered (codes " ") (o.0).0 ++ t) t6 in
          let t4 = numbered_only (codes " sync ") (d.0).1 (p.0).0 (p.0).1 p.1 h.4
          ∙ ap (λ (t : List ℕ). numbered (codes " sync ") (p.0).0 ++ t) t5 in
          let t3 = numbered_only (codes " retries ") (c.0).1 (d.0).0 (d.0).1 d.1 h.3
          ∙ ap (λ (t : List ℕ). numbered (codes " retries ") (d.0).0 ++ t) t4 in
          let t2 = numbered_only (codes " open ") (b.0).1 (c.0).0 (c.0).1 c.1 h.2
          ∙ ap (λ (t : List ℕ). numbered (codes " open ") (c.0).0 ++ t) t3 in
          let t1 = numbered_only (codes " latency ") (a.0).1 (b.0).0 (b.0).1 b.1 h.1
          ∙ ap (λ (t : List ℕ). numbered (codes " latency ") (b.0).0 ++ t) t2 in
          let t0 = numbered_only (codes "initiator ") line (a.0).0 (a.0).1 a.1 h.0
          ∙ ap (λ (t : List ℕ). numbered (codes "initiator ") (a.0).0 ++ t) t1 in
          t0;
    })

target_join : (f : TargetForm) (line r1 r2 r3 r4 r5 r6 r7 r8 r9 r10 : List ℕ)
    → line ≡ numbered (codes "target ") f.device ++ r1 → r1 ≡ numbered (codes " latency ") f.latency ++ r2
    → r2 ≡ numbered (codes " retries ") f.retries ++ r3 → r3 ≡ codes " disc " ++ r4 → r4 ≡ policy_text f.disc ++ r5
    → r5 ≡ codes " pick " ++ r6 → r6 ≡ pick_text f.pick ++ r7 → r7 ≡ numbered (codes " seek ") f.seek ++ r8
    → r8 ≡ numbered (codes " sync ") f.period ++ r9 → r9 ≡ numbered (codes " ") f.offset ++ r10
    → r10 ≡ flag_text (codes " begins ") f.begins → line ≡ target_text f
unfolding target_text target_disc_text target_seek_text
target_join f line r1 r2 r3 r4 r5 r6 r7 r8 r9 r10 e0 e1 e2 e3 e4 e5 e6 e7 e8 e9 e10 = e0
    ∙ ap (λ (t : List ℕ). numbered (codes "target ") f.device ++ t)
    (e1 ∙ ap (λ (t : List ℕ). numbered (codes " latency ") f.latency ++ t)
    (e2 ∙ ap (λ (t : List ℕ). numbered (codes " retries ") f.retries ++ t)
    (e3 ∙ ap (λ (t : List ℕ). codes " disc " ++ t) (e4 ∙ ap (λ (t : List ℕ). policy_text f.disc ++ t)
    (e5 ∙ ap (λ (t : List ℕ). codes " pick " ++ t) (e6 ∙ ap (λ (t : List ℕ). pick_text f.pick ++ t)
    (e7 ∙ ap (λ (t : List ℕ). numbered (codes " seek ") f.seek ++ t) (e8 ∙ ap (λ (t : List ℕ). numbered
    (codes " sync ") f.period ++ t) (e9 ∙ ap (λ (t : List ℕ). numbered (codes " ") f.offset ++ t) (e10))))))))))

target_only : (line : List ℕ) (x : Said) → target_at line ≡ Some x → IsRead line x
unfolding target_at
target_only line x e =
    let a = bind_some (numbered_at (codes "target ") line) _ x e in
    let b = bind_some (numbered_at (codes " latency ") (a.0).1) _ x a.2 in
    let d = bind_some (numbered_at (codes " retries ") (b.0).1) _ x b.2 in
    let k = bind_some (after (codes " disc ") (d.0).1) _ x d.2 in
    let q = bind_some (policy_at k.0) _ x k.2 in
    let m = bind_some (after (codes " pick ") (q.0).1) _ x q.2 in
    let r = bind_some (pick_at m.0) _ x m.2 in
    let s = bind_some (numbered_at (codes " seek ") (r.0).1) _ x r.2 in
    let p = bind_some (numbered_at (codes " sync ") (s.0).1) _ x s.2 in
    let o = bind_some (numbered_at (codes " ") (p.0).1) _ x p.2 in
    let y = bind_some (flag_at (codes " begins ") (o.0).1) _ x o.2 in
    let f : TargetForm = (record {
      device = (a.0).0;
      latency = (b.0).0;
      retries = (d.0).0;
      disc = (q.0).0;
      pick = (r.0).0;
      seek = (s.0).0;
      period = (p.0).0;
      offset = (o.0).0;
      begins = y.0;
    }) in
    let text : IsSpelled (target_line f) → line ≡ target_text f = λ h. target_join f line (a.0).1 (b.0).1 (d.0).1 k.0
    (q.0).1 m.0 (r.0).1 (s.0).1 (p.0).1 (o.0).1 (numbered_only (codes "target ") line (a.0).0 (a.0).1 a.1 h.0)
    (numbered_only (codes " latency ") (a.0).1 (b.0).0 (b.0).1 b.1 h.1)
    (numbered_only (codes " retries ") (b.0).1 (d.0).0 (d.0).1 d.1 h.2) (after_only (codes " disc ") (d.0).1 k.0 k.1)
    (policy_only k.0 (q.0).0 (q.0).1 q.1 h.3) (after_only (codes " pick ") (q.0).1 m.0 m.1)
    (pick_only m.0 (r.0).0 (r.0).1 r.1) (numbered_only (codes " seek ") (r.0).1 (s.0).0 (s.0).1 s.1 h.4)
    (numbered_only (codes " sync ") (s.0).1 (p.0).0 (p.0).1 p.1 h.5)
    (numbered_only (codes " ") (p.0).1 (o.0).0 (o.0).1 o.1 h.6) (flag_only (codes " begins ") (o.0).1 y.0 y.1) in
    subst (IsRead line) (some_is (target_line f) x y.2) (record { can = tt; text = text })

unit_only : (line : List ℕ) (x : Said) → unit_at line ≡ Some x → IsRead line x
unfolding unit_at unit_text
unit_only line x e =
    let a = bind_some (numbered_at (codes "unit ") line) _ x e in
    let b = bind_some (numbered_at (codes " ") (a.0).1) _ x a.2 in
    let c = bind_some (numbered_at (codes " blocks ") (b.0).1) _ x b.2 in
    let d = bind_some (numbered_at (codes " size ") (c.0).1) _ x c.2 in
    let q = bind_some (numbered_at (codes " depth ") (d.0).1) _ x d.2 in
    let done = bind_some (is_whole (q.0).1) _ x q.2 in
    let end = whole_only (q.0).1 done.1 in
    subst (IsRead line) (some_is
    (unit_line (record { target = (a.0).0; unit = (b.0).0; blocks = (c.0).0; size = (d.0).0; depth = (q.0).0 })) x
    done.2) (record {
      can = tt;
      text = λ h.
          let t4 = numbered_end (codes " depth ") (d.0).1 (q.0).0 (q.0).1 q.1 end h.4 in
          let t3 = numbered_only (codes " size ") (c.0).1 (d.0).0 (d.0).1 d.1 h.3
          ∙ ap (λ (t : List ℕ). numbered (codes " size ") (d.0).0 ++ t) t4 in
          let t2 = numbered_only (codes " blocks ") (b.0).1 (c.0).0 (c.0).1 c.1 h.2
          ∙ ap (λ (t : List ℕ). numbered (codes " blocks ") (c.0).0 ++ t) t3 in
          let t1 = numbered_only (codes " ") (a.0).1 (b.0).0 (b.0).1 b.1 h.1
          ∙ ap (λ (t : List ℕ). numbered (codes " ") (b.0).0 ++ t) t2 in
          let t0 = numbered_only (codes "unit ") line (a.0).0 (a.0).1 a.1 h.0
          ∙ ap (λ (t : List ℕ). numbered (codes "unit ") (a.0).0 ++ t) t1 in
          t0;
    })

fill_only : (line : List ℕ) (x : Said) → fill_at line ≡ Some x → IsRead line x
unfolding fill_at fill_text
fill_only line x e =
    let a = bind_some (numbered_at (codes "fill ") line) _ x e in
    let b = bind_some (numbered_at (codes " ") (a.0).1) _ x a.2 in
    let c = bind_some (numbered_at (codes " ") (b.0).1) _ x b.2 in
    let k = bind_some (after (codes " ") (c.0).1) _ x c.2 in
    let d = bind_some (hex_digits_at k.0) _ x k.2 in
    let done = bind_some (is_whole (d.0).1) _ x d.2 in
    let end = whole_only (d.0).1 done.1 in
    let hex = hex_end k.0 (d.0).0 (d.0).1 d.1 end in
    subst (IsRead line) (some_is
    (fill_line (record { target = (a.0).0; unit = (b.0).0; lba = (c.0).0; bytes = bytes_of (d.0).0 })) x done.2)
    (record {
      can = hex.hex;
      text = λ h.
          let t4 = hex.text in
          let t3 = after_only (codes " ") (c.0).1 k.0 k.1 ∙ ap (λ (t : List ℕ). codes " " ++ t) t4 in
          let t2 = numbered_only (codes " ") (b.0).1 (c.0).0 (c.0).1 c.1 h.2
          ∙ ap (λ (t : List ℕ). numbered (codes " ") (c.0).0 ++ t) t3 in
          let t1 = numbered_only (codes " ") (a.0).1 (b.0).0 (b.0).1 b.1 h.1
          ∙ ap (λ (t : List ℕ). numbered (codes " ") (b.0).0 ++ t) t2 in
          let t0 = numbered_only (codes "fill ") line (a.0).0 (a.0).1 a.1 h.0
          ∙ ap (λ (t : List ℕ). numbered (codes "fill ") (a.0).0 ++ t) t1 in
          t0;
    })

tape_only : (line : List ℕ) (x : Said) → tape_at line ≡ Some x → IsRead line x
unfolding tape_at tape_text
tape_only line x e =
    let a = bind_some (numbered_at (codes "tape ") line) _ x e in
    let b = bind_some (numbered_at (codes " ") (a.0).1) _ x a.2 in
    let c = bind_some (numbered_at (codes " objects ") (b.0).1) _ x b.2 in
    let d = bind_some (numbered_at (codes " size ") (c.0).1) _ x c.2 in
    let q = bind_some (numbered_at (codes " depth ") (d.0).1) _ x d.2 in
    let done = bind_some (is_whole (q.0).1) _ x q.2 in
    let end = whole_only (q.0).1 done.1 in
    subst (IsRead line) (some_is
    (tape_line (record { target = (a.0).0; unit = (b.0).0; objects = (c.0).0; size = (d.0).0; depth = (q.0).0 })) x
    done.2) (record {
      can = tt;
      text = λ h.
          let t4 = numbered_end (codes " depth ") (d.0).1 (q.0).0 (q.0).1 q.1 end h.4 in
          let t3 = numbered_only (codes " size ") (c.0).1 (d.0).0 (d.0).1 d.1 h.3
          ∙ ap (λ (t : List ℕ). numbered (codes " size ") (d.0).0 ++ t) t4 in
          let t2 = numbered_only (codes " objects ") (b.0).1 (c.0).0 (c.0).1 c.1 h.2
          ∙ ap (λ (t : List ℕ). numbered (codes " objects ") (c.0).0 ++ t) t3 in
          let t1 = numbered_only (codes " ") (a.0).1 (b.0).0 (b.0).1 b.1 h.1
          ∙ ap (λ (t : List ℕ). numbered (codes " ") (b.0).0 ++ t) t2 in
          let t0 = numbered_only (codes "tape ") line (a.0).0 (a.0).1 a.1 h.0
          ∙ ap (λ (t : List ℕ). numbered (codes "tape ") (a.0).0 ++ t) t1 in
          t0;
    })

load_only : (line : List ℕ) (x : Said) → load_at line ≡ Some x → IsRead line x
unfolding load_at load_text
load_only line x e =
    let a = bind_some (numbered_at (codes "load ") line) _ x e in
    let b = bind_some (numbered_at (codes " ") (a.0).1) _ x a.2 in
    let k = bind_some (after (codes " ") (b.0).1) _ x b.2 in
    let y = bind_some (object_at k.0) _ x k.2 in
    let what = object_only k.0 y.0 y.1 in
    subst (IsRead line) (some_is (load_line (record { target = (a.0).0; unit = (b.0).0; what = y.0 })) x y.2) (record {
      can = what.can;
      text = λ h.
          let t2 = after_only (codes " ") (b.0).1 k.0 k.1 ∙ ap (λ (t : List ℕ). codes " " ++ t) what.text in
          let t1 = numbered_only (codes " ") (a.0).1 (b.0).0 (b.0).1 b.1 h.1
          ∙ ap (λ (t : List ℕ). numbered (codes " ") (b.0).0 ++ t) t2 in
          let t0 = numbered_only (codes "load ") line (a.0).0 (a.0).1 a.1 h.0
          ∙ ap (λ (t : List ℕ). numbered (codes "load ") (a.0).0 ++ t) t1 in
          t0;
    })

cmd_only : (line : List ℕ) (x : Said) → cmd_at line ≡ Some x → IsRead line x
unfolding cmd_at cmd_text cmd_tag_text
cmd_only line x e =
    let a = bind_some (numbered_at (codes "cmd ") line) _ x e in
    let b = bind_some (numbered_at (codes " ") (a.0).1) _ x a.2 in
    let c = bind_some (numbered_at (codes " ") (b.0).1) _ x b.2 in
    let d = bind_some (numbered_at (codes " at ") (c.0).1) _ x c.2 in
    let k = bind_some (after (codes " ") (d.0).1) _ x d.2 in
    let q = bind_some (tag_at k.0) _ x k.2 in
    let m = bind_some (after (codes " cdb ") (q.0).1) _ x q.2 in
    let r = bind_some (hex_digits_at m.0) _ x m.2 in
    let s = bind_some (after (codes " ") (r.0).1) _ x r.2 in
    let y = bind_some (payload_at s.0) _ x s.2 in
    let hexs = hex_only m.0 (r.0).0 (r.0).1 r.1 in
    let pay = payload_only s.0 y.0 y.1 in
    subst (IsRead line) (some_is (cmd_line (record {
      host = (a.0).0;
      target = (b.0).0;
      unit = (c.0).0;
      at = (d.0).0;
      tag = (q.0).0;
      cdb = bytes_of (r.0).0;
      payload = y.0;
    })) x y.2) (record {
      can = ((hexs.1, some_of (r.0).0 m.0 (r.0).1 r.1 hexs.2), pay.can);
      text = λ h.
          let t9 = pay.text in
          let t8 = after_only (codes " ") (r.0).1 s.0 s.1 ∙ ap (λ (t : List ℕ). codes " " ++ t) t9 in
          let t7 = hexs.0 ∙ (λ i. hexs.2 i ++ t8 i) in
          let t6 = after_only (codes " cdb ") (q.0).1 m.0 m.1 ∙ ap (λ (t : List ℕ). codes " cdb " ++ t) t7 in
          let t5 = tag_only k.0 (q.0).0 (q.0).1 q.1 h.4 ∙ ap (λ (t : List ℕ). tag_text (q.0).0 ++ t) t6 in
          let t4 = after_only (codes " ") (d.0).1 k.0 k.1 ∙ ap (λ (t : List ℕ). codes " " ++ t) t5 in
          let t3 = numbered_only (codes " at ") (c.0).1 (d.0).0 (d.0).1 d.1 h.3
          ∙ ap (λ (t : List ℕ). numbered (codes " at ") (d.0).0 ++ t) t4 in
          let t2 = numbered_only (codes " ") (b.0).1 (c.0).0 (c.0).1 c.1 h.2
          ∙ ap (λ (t : List ℕ). numbered (codes " ") (c.0).0 ++ t) t3 in
          let t1 = numbered_only (codes " ") (a.0).1 (b.0).0 (b.0).1 b.1 h.1
          ∙ ap (λ (t : List ℕ). numbered (codes " ") (b.0).0 ++ t) t2 in
          let t0 = numbered_only (codes "cmd ") line (a.0).0 (a.0).1 a.1 h.0
          ∙ ap (λ (t : List ℕ). numbered (codes "cmd ") (a.0).0 ++ t) t1 in
          t0;
    })

abort_only : (line : List ℕ) (x : Said) → abort_at line ≡ Some x → IsRead line x
unfolding abort_at abort_text
abort_only line x e =
    let a = bind_some (numbered_at (codes "abort ") line) _ x e in
    let b = bind_some (numbered_at (codes " ") (a.0).1) _ x a.2 in
    let c = bind_some (numbered_at (codes " ") (b.0).1) _ x b.2 in
    let d = bind_some (numbered_at (codes " at ") (c.0).1) _ x c.2 in
    let k = bind_some (after (codes " ") (d.0).1) _ x d.2 in
    let y = bind_some (what_at k.0) _ x k.2 in
    subst (IsRead line)
    (some_is (abort_line (record { host = (a.0).0; target = (b.0).0; unit = (c.0).0; at = (d.0).0; what = y.0 })) x y.2)
    (record {
      can = tt;
      text = λ h.
          let t5 = what_only k.0 y.0 y.1 h.4 in
          let t4 = after_only (codes " ") (d.0).1 k.0 k.1 ∙ ap (λ (t : List ℕ). codes " " ++ t) t5 in
          let t3 = numbered_only (codes " at ") (c.0).1 (d.0).0 (d.0).1 d.1 h.3
          ∙ ap (λ (t : List ℕ). numbered (codes " at ") (d.0).0 ++ t) t4 in
          let t2 = numbered_only (codes " ") (b.0).1 (c.0).0 (c.0).1 c.1 h.2
          ∙ ap (λ (t : List ℕ). numbered (codes " ") (c.0).0 ++ t) t3 in
          let t1 = numbered_only (codes " ") (a.0).1 (b.0).0 (b.0).1 b.1 h.1
          ∙ ap (λ (t : List ℕ). numbered (codes " ") (b.0).0 ++ t) t2 in
          let t0 = numbered_only (codes "abort ") line (a.0).0 (a.0).1 a.1 h.0
          ∙ ap (λ (t : List ℕ). numbered (codes "abort ") (a.0).0 ++ t) t1 in
          t0;
    })

reset_only : (line : List ℕ) (x : Said) → reset_at line ≡ Some x → IsRead line x
unfolding reset_at reset_text
reset_only line x e =
    let a = bind_some (numbered_at (codes "reset ") line) _ x e in
    let b = bind_some (numbered_at (codes " at ") (a.0).1) _ x a.2 in
    let done = bind_some (is_whole (b.0).1) _ x b.2 in
    let end = whole_only (b.0).1 done.1 in
    subst (IsRead line) (some_is (reset_line (record { device = (a.0).0; at = (b.0).0 })) x done.2) (record {
      can = tt;
      text = λ h.
          let t1 = numbered_end (codes " at ") (a.0).1 (b.0).0 (b.0).1 b.1 end h.1 in
          let t0 = numbered_only (codes "reset ") line (a.0).0 (a.0).1 a.1 h.0
          ∙ ap (λ (t : List ℕ). numbered (codes "reset ") (a.0).0 ++ t) t1 in
          t0;
    })

fault_only : (line : List ℕ) (x : Said) → fault_at line ≡ Some x → IsRead line x
unfolding fault_at fault_text
fault_only line x e =
    let a = bind_some (numbered_at (codes "fault at ") line) _ x e in
    let b = bind_some (numbered_at (codes " bit ") (a.0).1) _ x a.2 in
    let done = bind_some (is_whole (b.0).1) _ x b.2 in
    let end = whole_only (b.0).1 done.1 in
    subst (IsRead line) (some_is (fault_line (record { at = (a.0).0; bit = (b.0).0 })) x done.2) (record {
      can = tt;
      text = λ h.
          let t1 = numbered_end (codes " bit ") (a.0).1 (b.0).0 (b.0).1 b.1 end h.1 in
          let t0 = numbered_only (codes "fault at ") line (a.0).0 (a.0).1 a.1 h.0
          ∙ ap (λ (t : List ℕ). numbered (codes "fault at ") (a.0).0 ++ t) t1 in
          t0;
    })

declared_only : (line : List ℕ) (x : Said) → declared_at line ≡ Some x → IsRead line x
declared_only line x e = elim (or_some (scsi_at line) _ x e) [
  | inl h ↦ scsi_only line x h
  | inr f0 ↦ elim (or_some (initiator_at line) _ x f0) [
    | inl h ↦ initiator_only line x h
    | inr f1 ↦ elim (or_some (target_at line) _ x f1) [
      | inl h ↦ target_only line x h
      | inr f2 ↦ elim (or_some (unit_at line) _ x f2) [
        | inl h ↦ unit_only line x h
        | inr f3 ↦ elim (or_some (fill_at line) _ x f3) [
          | inl h ↦ fill_only line x h
          | inr f4 ↦ elim (or_some (tape_at line) _ x f4) [
            | inl h ↦ tape_only line x h
            | inr f5 ↦ load_only line x f5
          ]
        ]
      ]
    ]
  ]
]

happens_only : (line : List ℕ) (x : Said) → happens_at line ≡ Some x → IsRead line x
happens_only line x e = elim (or_some (cmd_at line) _ x e) [
  | inl h ↦ cmd_only line x h
  | inr f0 ↦ elim (or_some (abort_at line) _ x f0) [
    | inl h ↦ abort_only line x h
    | inr f1 ↦ elim (or_some (reset_at line) _ x f1) [
      | inl h ↦ reset_only line x h
      | inr f2 ↦ elim (or_some (fault_at line) _ x f2) [
        | inl h ↦ fault_only line x h
        | inr f3 ↦ end_only line x f3
      ]
    ]
  ]
]

pub form_only : (line : List ℕ) (x : Said) → form_of line ≡ Some x → IsRead line x
form_only line x e = elim (or_some (declared_at line) _ x e) [
  | inl h ↦ declared_only line x h
  | inr h ↦ happens_only line x h
]
