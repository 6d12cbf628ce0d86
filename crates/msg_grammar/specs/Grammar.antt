-- The grammar of messages, of either direction: what the bytes of a message are, and what a list of bytes
-- begins with.
use Rattle.std.specs.Prelude.{ℕ, ◌≡◌, ◌<◌, ◌≤◌, ◌&&◌, List, [], ◌∷◌, ◌++◌, length, take, Option, Some, None, option_map}
use Rattle.std.specs.Prelude.{◌==◌, if◌then◌else◌, true, false, Bool}
use Rattle.std.specs.List.{AllByRecursion}
use Rattle.bus_trace.specs.declared.agreements.Agreement.{Agreement}
use Rattle.msg_grammar.specs.declared.message.Got.{Got}
use Rattle.msg_grammar.specs.declared.message.Got.TheVariants.{Whole, More, Unknown}
use Rattle.msg_grammar.specs.declared.message.MsgOut.{MsgOut}
use Rattle.msg_grammar.specs.declared.message.MsgOut.TheVariants as to_target

-- What the first byte of a message says of it: it is this message, alone; or one byte follows, the tag
-- of a command; or it begins an extended message, a synchronous data transfer request; or no message
-- begins so.
pub data Form (M : Type 0) : Type 0 where
  alone : M → Form M
  tagged : (ℕ → M) → Form M
  extended : (Agreement → M) → Form M
  reserved : Form M

-- ---- the bytes of a message

-- After a message of one byte nothing comes.
abbrev pub nothing_more : {M : Type 0} → M → List ℕ → Option M
nothing_more m [] = Some m
nothing_more m (b ∷ bytes) = None

-- After the first byte of a queue tag message comes the tag.
abbrev pub tag_of : List ℕ → Option ℕ
tag_of (tag ∷ []) = Some tag
tag_of _ = None

-- After the 01 of an extended message come the length 03, the code 01 of a synchronous data transfer
-- request, the transfer period factor and the REQ/ACK offset.
abbrev pub offer_of : List ℕ → Option Agreement
offer_of (len ∷ code ∷ period ∷ offset ∷ []) =
    if len == 0x03 && code == 0x01 then Some (record { period = period; offset = offset }) else None
offer_of _ = None

-- The message of which these are the bytes after the first one.
abbrev pub msg_after : {M : Type 0} → Form M → List ℕ → Option M
msg_after (alone m) bytes = nothing_more m bytes
msg_after (tagged message) bytes = option_map message (tag_of bytes)
msg_after (extended message) bytes = option_map message (offer_of bytes)
msg_after reserved bytes = None

-- The message of which these are all bytes, by a table of the forms that first bytes have.
abbrev pub msg_by : {M : Type 0} → (ℕ → Form M) → List ℕ → Option M
msg_by form [] = None
msg_by form (first ∷ bytes) = msg_after (form first) bytes

-- ---- what a list of bytes begins with

-- A message of what is got.
abbrev pub as_got : {A M : Type 0} → (A → M) → Got A → Got M
as_got f (Whole x n) = Whole (f x) n
as_got f More = More
as_got f Unknown = Unknown

-- After the first byte of a queue tag message: any byte is the tag.
abbrev pub got_tag : List ℕ → Got ℕ
got_tag [] = More
got_tag (tag ∷ bytes) = Whole tag 2

-- After the code of a synchronous data transfer request: any two bytes are the period and the offset.
abbrev pub got_fields : List ℕ → Got Agreement
got_fields (period ∷ offset ∷ bytes) = Whole (record { period = period; offset = offset }) 5
got_fields _ = More

-- After the length of an extended message.
abbrev pub got_code : List ℕ → Got Agreement
got_code [] = More
got_code (code ∷ bytes) = if code == 0x01 then got_fields bytes else Unknown

-- After the first byte of an extended message.
abbrev pub got_offer : List ℕ → Got Agreement
got_offer [] = More
got_offer (len ∷ bytes) = if len == 0x03 then got_code bytes else Unknown

-- What bytes begin with, the first of which has this form.
abbrev pub got_after : {M : Type 0} → Form M → List ℕ → Got M
got_after (alone m) bytes = Whole m 1
got_after (tagged message) bytes = as_got message (got_tag bytes)
got_after (extended message) bytes = as_got message (got_offer bytes)
got_after reserved bytes = Unknown

-- What bytes begin with, by a table of the forms that first bytes have.
abbrev pub got_by : {M : Type 0} → (ℕ → Form M) → List ℕ → Got M
got_by form [] = More
got_by form (first ∷ bytes) = got_after (form first) bytes

-- A message that is whole keeps this.
abbrev pub IfWhole : {M : Type 0} → Got M → (M → Type 0) → Type 0
IfWhole (Whole m n) holds = holds m
IfWhole More holds = Unit {0}
IfWhole Unknown holds = Unit {0}

-- ---- words of the laws; `message` says of which message some bytes are all bytes

-- Each is a byte.
abbrev pub AreBytes : List ℕ → Type 0
AreBytes bytes = AllByRecursion (λ b. b < 256) bytes

-- The first n of the bytes are the message m.
abbrev pub Begins : {M : Type 0} → (List ℕ → Option M) → List ℕ → M → ℕ → Type 0
Begins message bytes m n = (n ≤ length bytes) × (message (take n bytes) ≡ Some m)

-- These bytes and some more, at least one, are a message.
abbrev pub GoesOn : {M : Type 0} → (List ℕ → Option M) → List ℕ → Type 0
GoesOn {M} message bytes =
    (more : List ℕ) × (m : M) × (0 < length more) × AreBytes more × (message (bytes ++ more) ≡ Some m)

-- No front of these bytes is a message, whatever follows them: no message begins with them, and none is
-- a part of them at their front.
abbrev pub NeverBegins : {M : Type 0} → (List ℕ → Option M) → List ℕ → Type 0
NeverBegins message bytes = (more : List ℕ) (n : ℕ) → message (take n (bytes ++ more)) ≡ None

abbrev pub is_abort : MsgOut → Bool
is_abort to_target.Abort = true
is_abort to_target.AbortTag = true
is_abort to_target.ClearQueue = true
is_abort to_target.DeviceReset = true
is_abort _ = false
