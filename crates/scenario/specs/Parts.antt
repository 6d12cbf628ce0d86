-- The parts of a line that have forms of their own.
use Rattle.std.specs.Prelude.{ℕ, Bool, true, false, List, [], ◌∷◌, Option, Some, None, codes, slice_index}
use Rattle.bus_base.specs.declared.events.Pick.{Pick}
use Rattle.bus_base.specs.declared.events.Pick.TheVariants as picks
use Rattle.text_words.specs.Words.{Number, ◌>>=◌, after, number_at, hex_digits_at, hex_array_at, bytes_of, is_whole}
use Rattle.scenario.specs.declared.form.PolicyForm.{PolicyForm}
use Rattle.scenario.specs.declared.form.PolicyForm.TheVariants as policies
use Rattle.scenario.specs.declared.form.TagForm.{TagForm}
use Rattle.scenario.specs.declared.form.TagForm.TheVariants as tags
use Rattle.scenario.specs.declared.form.PayloadForm.{PayloadForm}
use Rattle.scenario.specs.declared.form.PayloadForm.TheVariants as payloads
use Rattle.scenario.specs.declared.form.WhatForm.{WhatForm}
use Rattle.scenario.specs.declared.form.WhatForm.TheVariants as whats
use Rattle.scenario.specs.declared.form.ObjectForm.{ObjectForm}
use Rattle.scenario.specs.declared.form.ObjectForm.TheVariants as objects

-- The first of two readings that fits.
abbrev pub or : {A : Type 0} → Option A → Option A → Option A
or None o = o
or (Some x) o = Some x

-- A number after a text.
unfoldable pub numbered_at : List ℕ → List ℕ → Option (Number × List ℕ)
numbered_at text bytes = after text bytes >>= λ rest. number_at rest

-- What a number that was read stands for, and what follows it.
abbrev pub made : {A : Type 0} → (Number → A) → Option (Number × List ℕ) → Option (A × List ℕ)
made f o = o >>= λ n. Some (f n.0, n.1)

-- What a word that was read stands for, and what follows it.
abbrev pub plain : {A : Type 0} → A → Option (List ℕ) → Option (A × List ℕ)
plain x rest = rest >>= λ r. Some (x, r)

-- The text, and nothing after it.
unfoldable pub exactly_at : List ℕ → List ℕ → Option (Unit {0})
exactly_at text bytes = after text bytes >>= λ rest. is_whole rest

-- YN: `yes` or `no`, at the end of a line.
unfoldable pub yes_no_at : List ℕ → Option Bool
yes_no_at bytes =
    or (exactly_at (codes "yes") bytes >>= λ _. Some true) (exactly_at (codes "no") bytes >>= λ _. Some false)

-- The end of an initiator's or target's line: the text and YN in texts 2 and 3, nothing in text 1.
unfoldable pub flag_at : List ℕ → List ℕ → Option (Option Bool)
flag_at text [] = Some None
flag_at text (b ∷ bytes) = after text (b ∷ bytes) >>= λ rest. yes_no_at rest >>= λ says. Some (Some says)

-- POLICY: `never`, `command`, `burst K` or `nosave K`.
unfoldable pub policy_at : List ℕ → Option (PolicyForm × List ℕ)
policy_at bytes =
    or (plain policies.Never (after (codes "never") bytes))
    (or (plain policies.Command (after (codes "command") bytes))
    (or (made policies.Burst (numbered_at (codes "burst ") bytes))
    (made policies.NoSave (numbered_at (codes "nosave ") bytes))))

-- PICK: `first` or `last`.
unfoldable pub pick_at : List ℕ → Option (Pick × List ℕ)
pick_at bytes = or (plain picks.First (after (codes "first") bytes)) (plain picks.Last (after (codes "last") bytes))

-- TAG: `untagged`, `simple N`, `ordered N` or `head N`.
unfoldable pub tag_at : List ℕ → Option (TagForm × List ℕ)
tag_at bytes =
    or (plain tags.Untagged (after (codes "untagged") bytes))
    (or (made tags.Simple (numbered_at (codes "simple ") bytes))
    (or (made tags.Ordered (numbered_at (codes "ordered ") bytes))
    (made tags.Head (numbered_at (codes "head ") bytes))))

-- What a load's line says of the object: a block of these bytes, or a filemark.
pub data ObjectSaid : Type 0 where
  block_object : List ℕ → ObjectSaid
  mark_object : ObjectSaid

-- What the program's form of an object says.
abbrev pub object_said : ObjectForm → ObjectSaid
object_said (objects.Block digits) = block_object (bytes_of digits.now)
object_said objects.Mark = mark_object

-- OBJECT `mark`.
unfoldable pub mark_at : List ℕ → Option ObjectSaid
mark_at bytes = exactly_at (codes "mark") bytes >>= λ _. Some mark_object

-- OBJECT HEX.
unfoldable pub block_at : List ℕ → Option ObjectSaid
block_at bytes = do
  hex ← hex_digits_at bytes
  done ← is_whole hex.1
  Some (block_object (bytes_of hex.0))

-- OBJECT, at the end of a line: `mark` or HEX.
unfoldable pub object_at : List ℕ → Option ObjectSaid
object_at bytes = or (mark_at bytes) (block_at bytes)

-- What a command's line says of the bytes that its initiator sends: none, these, or as many as are
-- needed from this one on.
pub data PayloadSaid : Type 0 where
  no_bytes : PayloadSaid
  these_bytes : List ℕ → PayloadSaid
  bytes_from : ℕ → PayloadSaid

-- What the program's form says.
abbrev pub payload_said : PayloadForm → PayloadSaid
payload_said payloads.Nothing = no_bytes
payload_said (payloads.Hex digits) = these_bytes (bytes_of digits.now)
payload_said (payloads.From b) = bytes_from b

-- BYTES `none`.
unfoldable pub nothing_at : List ℕ → Option PayloadSaid
nothing_at bytes = exactly_at (codes "none") bytes >>= λ _. Some no_bytes

-- BYTES `out hex HEX`.
unfoldable pub hex_at : List ℕ → Option PayloadSaid
hex_at bytes = do
  a ← after (codes "out hex ") bytes
  hex ← hex_digits_at a
  done ← is_whole hex.1
  Some (these_bytes (bytes_of hex.0))

-- BYTES `out from HH`.
unfoldable pub from_at : List ℕ → Option PayloadSaid
from_at bytes = do
  a ← after (codes "out from ") bytes
  one ← hex_array_at 1 a
  done ← is_whole one.1
  Some (bytes_from (slice_index one.0 0))

-- BYTES: one of these.
unfoldable pub payload_at : List ℕ → Option PayloadSaid
payload_at bytes = or (nothing_at bytes) (or (hex_at bytes) (from_at bytes))

-- WHAT `tag N`.
unfoldable pub what_tag_at : List ℕ → Option WhatForm
what_tag_at bytes = do
  n ← numbered_at (codes "tag ") bytes
  done ← is_whole n.1
  Some (whats.Tag n.0)

-- WHAT: `all`, `tag N`, `queue` or `device`.
unfoldable pub what_at : List ℕ → Option WhatForm
what_at bytes =
    or (exactly_at (codes "all") bytes >>= λ _. Some whats.All)
    (or (exactly_at (codes "queue") bytes >>= λ _. Some whats.Queue)
    (or (exactly_at (codes "device") bytes >>= λ _. Some whats.Device)
    (what_tag_at bytes)))
