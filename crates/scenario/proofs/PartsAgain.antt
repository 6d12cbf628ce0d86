-- What is written is read again: the parts of a line.
use Rattle.std.proofs.Common.{◌≡◌, ℕ, ◌^◌, ◌/◌, ◌%◌, ◌<◌, Bool, true, false, ◌&&◌, List, [], ◌∷◌, ◌++◌, length, Option}
use Rattle.std.proofs.Common.{Some, None}
use Rattle.std.proofs.Common.{refl, sym, ap, ◌∙◌, arith, append_assoc}
use Rattle.std.specs.Prelude.{codes, nat_eq}
use Rattle.std.proofs.lemmas.Bool.Decides.{nat_tests}
use Rattle.std.proofs.lemmas.List.{append-nil}
use Rattle.bus_base.specs.declared.events.Pick.{Pick}
use Rattle.bus_base.specs.declared.events.Pick.TheVariants as picks
use Rattle.text_words.specs.Words.{Number, after, number_at, hex_digits_at, hex_array_at, is_hex, ◌>>=◌}
use Rattle.text_words.specs.Spelling.{hex_digit, hex_text, byte_text, number_text, AreBytes, EndsNumber}
use Rattle.text_words.proofs.Again.{after_same, number_again, hex_again, hex_passes, hex_array_again, bytes_again}
use Rattle.scenario.specs.declared.form.PolicyForm.{PolicyForm}
use Rattle.scenario.specs.declared.form.PolicyForm.TheVariants as policies
use Rattle.scenario.specs.declared.form.TagForm.{TagForm}
use Rattle.scenario.specs.declared.form.TagForm.TheVariants as tags
use Rattle.scenario.specs.declared.form.WhatForm.{WhatForm}
use Rattle.scenario.specs.declared.form.WhatForm.TheVariants as whats
use Rattle.scenario.specs.Parts.{numbered_at, exactly_at, yes_no_at, flag_at, policy_at, pick_at, tag_at, PayloadSaid}
use Rattle.scenario.specs.Parts.{no_bytes, these_bytes, bytes_from, nothing_at, hex_at, from_at, payload_at}
use Rattle.scenario.specs.Parts.{what_tag_at, what_at, ObjectSaid, block_object, mark_object, mark_at, block_at}
use Rattle.scenario.specs.Parts.{object_at}
use Rattle.scenario.specs.Writing.{numbered, flag_text, policy_text, pick_text, tag_text, object_text, payload_text}
use Rattle.scenario.specs.Writing.{what_text}

-- The number has a spelling.
abbrev pub IsSmall : Number → Type 0
IsSmall None = ⊥
IsSmall (Some n) = n < 2 ^ 64

number_text_again : (u : Number) (rest : List ℕ) → IsSmall u → EndsNumber rest
    → number_at (number_text u ++ rest) ≡ Some (u, rest)
number_text_again None rest h e = absurd h
number_text_again (Some n) rest h e = number_again n rest h e

pub numbered_again : (text : List ℕ) (u : Number) (rest : List ℕ) → IsSmall u → EndsNumber rest
    → numbered_at text (numbered text u ++ rest) ≡ Some (u, rest)
unfolding numbered_at
numbered_again text u rest h e = ap (numbered_at text) (append_assoc text (number_text u) rest)
    ∙ (ap (λ (o : Option (List ℕ)). o >>= λ r. number_at r) (after_same text (number_text u ++ rest))
    ∙ number_text_again u rest h e)

pub numbered_last : (text : List ℕ) (u : Number) → IsSmall u → numbered_at text (numbered text u) ≡ Some (u, [])
numbered_last text u h = ap (numbered_at text) (sym (append-nil (numbered text u))) ∙ numbered_again text u [] h refl

-- ---- YN

pub offers_again : (o : Option Bool) → flag_at (codes " offers ") (flag_text (codes " offers ") o) ≡ Some o
unfolding flag_at yes_no_at exactly_at after
offers_again None = refl
offers_again (Some true) = refl
offers_again (Some false) = refl

pub begins_again : (o : Option Bool) → flag_at (codes " begins ") (flag_text (codes " begins ") o) ≡ Some o
unfolding flag_at yes_no_at exactly_at after
begins_again None = refl
begins_again (Some true) = refl
begins_again (Some false) = refl

pub offers_ends : (o : Option Bool) → EndsNumber (flag_text (codes " offers ") o)
offers_ends None = refl
offers_ends (Some true) = refl
offers_ends (Some false) = refl

pub begins_ends : (o : Option Bool) → EndsNumber (flag_text (codes " begins ") o)
begins_ends None = refl
begins_ends (Some true) = refl
begins_ends (Some false) = refl

-- ---- POLICY and PICK

abbrev pub IsSmallPolicy : PolicyForm → Type 0
IsSmallPolicy policies.Never = Unit {0}
IsSmallPolicy policies.Command = Unit {0}
IsSmallPolicy (policies.Burst k) = IsSmall k
IsSmallPolicy (policies.NoSave k) = IsSmall k

not_burst : (k : Number) (rest : List ℕ) → numbered_at (codes "burst ") (numbered (codes "nosave ") k ++ rest) ≡ None
unfolding numbered_at after
not_burst k rest = refl

pub policy_again : (p : PolicyForm) (rest : List ℕ) → IsSmallPolicy p → EndsNumber rest
    → policy_at (policy_text p ++ rest) ≡ Some (p, rest)
unfolding policy_at after
policy_again policies.Never rest h e = refl
policy_again policies.Command rest h e = refl
policy_again (policies.Burst k) rest h e = rw (numbered_again (codes "burst ") k rest h e) refl
policy_again (policies.NoSave k) rest h e = rw (not_burst k rest, numbered_again (codes "nosave ") k rest h e) refl

pub pick_again : (p : Pick) (rest : List ℕ) → pick_at (pick_text p ++ rest) ≡ Some (p, rest)
unfolding pick_at after
pick_again picks.First rest = refl
pick_again picks.Last rest = refl

-- ---- TAG

abbrev pub IsSmallTag : TagForm → Type 0
IsSmallTag tags.Untagged = Unit {0}
IsSmallTag (tags.Simple n) = IsSmall n
IsSmallTag (tags.Ordered n) = IsSmall n
IsSmallTag (tags.Head n) = IsSmall n

simple_ordered : (n : Number) (rest : List ℕ)
    → numbered_at (codes "simple ") (numbered (codes "ordered ") n ++ rest) ≡ None
unfolding numbered_at after
simple_ordered n rest = refl

simple_head : (n : Number) (rest : List ℕ) → numbered_at (codes "simple ") (numbered (codes "head ") n ++ rest) ≡ None
unfolding numbered_at after
simple_head n rest = refl

ordered_head : (n : Number) (rest : List ℕ) → numbered_at (codes "ordered ") (numbered (codes "head ") n ++ rest) ≡ None
unfolding numbered_at after
ordered_head n rest = refl

pub tag_again : (t : TagForm) (rest : List ℕ) → IsSmallTag t → EndsNumber rest
    → tag_at (tag_text t ++ rest) ≡ Some (t, rest)
unfolding tag_at after
tag_again tags.Untagged rest h e = refl
tag_again (tags.Simple n) rest h e = rw (numbered_again (codes "simple ") n rest h e) refl
tag_again (tags.Ordered n) rest h e = rw (simple_ordered n rest, numbered_again (codes "ordered ") n rest h e) refl
tag_again (tags.Head n) rest h e =
    rw (simple_head n rest, ordered_head n rest, numbered_again (codes "head ") n rest h e) refl

-- ---- HEX

pub hex_last : (bytes : List ℕ) → AreBytes bytes → 0 < length bytes
    → hex_digits_at (hex_text bytes) ≡ Some (hex_text bytes, [])
hex_last bytes h some = ap hex_digits_at (sym (append-nil (hex_text bytes))) ∙ hex_again bytes [] h some refl

-- ---- OBJECT

abbrev pub IsSpelledObject : ObjectSaid → Type 0
IsSpelledObject (block_object bytes) = AreBytes bytes × (0 < length bytes)
IsSpelledObject mark_object = Unit {0}

first_passes : (p q : Bool) → (p && q) ≡ true → p ≡ true
first_passes true q h = refl
first_passes false q h = absurd cc

-- No digit begins `mark`.
digit_unmarked : (digit : ℕ) (rest : List ℕ) → is_hex digit ≡ true → mark_at (digit ∷ rest) ≡ None
unfolding mark_at exactly_at after
digit_unmarked digit rest h = let other : nat_eq digit 109 ≡ false = grind (arith, nat_tests) in rw other refl

hex_unmarked : (bytes : List ℕ) → AreBytes bytes → 0 < length bytes → mark_at (hex_text bytes) ≡ None
hex_unmarked [] h some = absurd (omega arith)
hex_unmarked (b ∷ bytes) h some = digit_unmarked (hex_digit (b / 16)) (hex_digit (b % 16) ∷ hex_text bytes)
    (first_passes (is_hex (hex_digit (b / 16))) _ (hex_passes (b ∷ bytes) h))

block_again : (bytes : List ℕ) → AreBytes bytes → 0 < length bytes
    → block_at (hex_text bytes) ≡ Some (block_object bytes)
unfolding block_at
block_again bytes h some = rw (hex_last bytes h some, bytes_again bytes h) refl

mark_again : object_at (codes "mark") ≡ Some mark_object
unfolding object_at mark_at exactly_at after
mark_again = refl

pub object_again : (o : ObjectSaid) → IsSpelledObject o → object_at (object_text o) ≡ Some o
unfolding object_at
object_again mark_object h = mark_again
object_again (block_object bytes) h = rw (hex_unmarked bytes h.0 h.1, block_again bytes h.0 h.1) refl

-- ---- BYTES

abbrev pub IsSpelledPayload : PayloadSaid → Type 0
IsSpelledPayload no_bytes = Unit {0}
IsSpelledPayload (these_bytes bytes) = AreBytes bytes × (0 < length bytes)
IsSpelledPayload (bytes_from b) = b < 256

hex_out : (bytes : List ℕ) → AreBytes bytes → 0 < length bytes
    → hex_at (codes "out hex " ++ hex_text bytes) ≡ Some (these_bytes bytes)
unfolding hex_at
hex_out bytes h some =
    rw (after_same (codes "out hex ") (hex_text bytes), hex_last bytes h some, bytes_again bytes h) refl

from_out : (b : ℕ) → b < 256 → from_at (codes "out from " ++ byte_text b) ≡ Some (bytes_from b)
unfolding from_at
from_out b h = rw (
  after_same (codes "out from ") (byte_text b),
  ap (hex_array_at 1) (sym (append-nil (hex_text (b ∷ []))))
      ∙ hex_array_again 1 (b ∷ []) [] (h, tt) refl (omega arith) refl,
) refl

not_hex : (b : ℕ) → hex_at (codes "out from " ++ byte_text b) ≡ None
unfolding hex_at after
not_hex b = refl

pub payload_again : (p : PayloadSaid) → IsSpelledPayload p → payload_at (payload_text p) ≡ Some p
unfolding payload_at nothing_at exactly_at after
payload_again no_bytes h = refl
payload_again (these_bytes bytes) h = rw (hex_out bytes h.0 h.1) refl
payload_again (bytes_from b) h = rw (not_hex b, from_out b h) refl

-- ---- WHAT

abbrev pub IsSmallWhat : WhatForm → Type 0
IsSmallWhat whats.All = Unit {0}
IsSmallWhat (whats.Tag n) = IsSmall n
IsSmallWhat whats.Queue = Unit {0}
IsSmallWhat whats.Device = Unit {0}

what_tag_again : (n : Number) → IsSmall n → what_tag_at (numbered (codes "tag ") n) ≡ Some (whats.Tag n)
unfolding what_tag_at
what_tag_again n h = rw (numbered_last (codes "tag ") n h) refl

pub what_again : (w : WhatForm) → IsSmallWhat w → what_at (what_text w) ≡ Some w
unfolding what_at exactly_at after
what_again whats.All h = refl
what_again (whats.Tag n) h = what_tag_again n h
what_again whats.Queue h = refl
what_again whats.Device h = refl
