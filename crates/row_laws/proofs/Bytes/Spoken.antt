-- What is said in a connection are bytes, after any rows: what was heard crossed as a byte, and all else the lines of
-- the scenario say.
use Rattle.row_laws.proofs
use proofs.Names.{ℕ, zero, suc, ◌≡◌, ◌<◌, ◌+◌, ◌%◌, Bool, true, false, not, ◌&&◌, List, [], ◌∷◌, ◌++◌, take, Option}
use proofs.Names.{Some, None, refl, subst, arith, ◌==◌, same_Some, AllByRecursion, if◌then◌else◌, is_some, max, min}
use proofs.Names.{nat_lt, AbortKind, ProcId, changes_phase, is_message_out, is_message_in, is_command, receiver_of}
use proofs.Names.{Agreement, Change, Connection, AreBytes, whole, out_one, in_one, Begins, form_out, form_in}
use proofs.Names.{msg_out_of, msg_in_of, got_out, got_in, out_bytes, in_bytes, Got, Whole, More, Unknown, MsgIn, MsgOut}
use proofs.Names.{fresh_bytes, byte_out, byte_in, byte_else, phase_begins, dialogue_after, left_of, Dialogue}
use proofs.Names.{ScenarioValue, AbortDef, CmdDef, HostDef, Tag, TargetDef, Process, command_at, process_by, process_if}
use proofs.Names.{process_of, whole_out, whole_in, message_out, message_in, abort_line_at, Item, process, abort, Speech}
use proofs.Names.{request_after, speech_after_byte, words_after, speech_after, agreement_answer, host_answer}
use proofs.Names.{target_answer, offer_if, tag_bytes, abort_bytes, process_opening, abort_opening, answer_bytes}
use proofs.{Names.{Hearing, host_of, target_def_of, opening, found_holds}, Bytes.SmallLines.{IsSmall, IsSmallTag}}
use proofs.Bytes.SmallLines.{IsSmallKind, IsSmallHost, IsSmallTarget, IsSmallCommand, IsSmallAbort, HasSmallLines}
use proofs.Common.Impossible.{none_some}

-- ---- lists

pub small_append : (xs ys : List ℕ) → AreBytes xs → AreBytes ys → AreBytes (xs ++ ys)
small_append [] ys a b = b
small_append (x ∷ xs) ys a b = (a.0, small_append xs ys a.1 b)

pub small_take : (m : ℕ) (xs : List ℕ) → AreBytes xs → AreBytes (take m xs)
small_take zero xs a = tt
small_take (suc m) [] a = tt
small_take (suc m) (x ∷ xs) a = (a.0, small_take m xs a.1)

byte_more : (xs : List ℕ) (m : ℕ) → AreBytes xs → AreBytes (xs ++ m % 256 ∷ [])
byte_more xs m a = small_append xs (m % 256 ∷ []) a (omega arith, tt)

-- ---- what is heard

begins_out : (bytes : List ℕ) (m : MsgOut) (i : ℕ) → got_out bytes ≡ Whole m i → Begins msg_out_of bytes m i
unfolding form_out
begins_out bytes m i e = (whole form_out 0x06 MsgOut.Abort (omega arith) refl bytes m i).0 e

begins_in : (bytes : List ℕ) (m : MsgIn) (i : ℕ) → got_in bytes ≡ Whole m i → Begins msg_in_of bytes m i
unfolding form_in
begins_in bytes m i e = (whole form_in 0x02 MsgIn.SavePointer (omega arith) refl bytes m i).0 e

out_small : (bytes : List ℕ) (g : Got MsgOut) (m : MsgOut) → AreBytes bytes → got_out bytes ≡ g → whole_out g ≡ Some m
    → AreBytes (out_bytes m)
out_small bytes (Whole k n) m a e z =
    let b = begins_out bytes k n e in
    let o = (out_one (take n bytes) k).0 b.1 in
    subst (λ (y : MsgOut). AreBytes (out_bytes y)) (same_Some k m z)
    (subst (λ (x : List ℕ). AreBytes x) o.0 (small_take n bytes a))
out_small bytes More m a e z = absurd (none_some m z)
out_small bytes Unknown m a e z = absurd (none_some m z)

in_small : (bytes : List ℕ) (g : Got MsgIn) (m : MsgIn) → AreBytes bytes → got_in bytes ≡ g → whole_in g ≡ Some m
    → AreBytes (in_bytes m)
in_small bytes (Whole k n) m a e z =
    let b = begins_in bytes k n e in
    let o = (in_one (take n bytes) k).0 b.1 in
    subst (λ (y : MsgIn). AreBytes (in_bytes y)) (same_Some k m z)
    (subst (λ (x : List ℕ). AreBytes x) o.0 (small_take n bytes a))
in_small bytes More m a e z = absurd (none_some m z)
in_small bytes Unknown m a e z = absurd (none_some m z)

-- The bytes of messages that are half sent.
pub record HasByteHalves (d : Dialogue) : Type 0 where
  pub half : AreBytes d.half
  pub fresh : AreBytes d.fresh

left_small : {M : Type 0} (g : Got M) (xs : List ℕ) → AreBytes xs → AreBytes (left_of g xs)
left_small (Whole m n) xs a = tt
left_small More xs a = a
left_small Unknown xs a = tt

fresh_small : (d : Dialogue) → HasByteHalves d → AreBytes (fresh_bytes d)
fresh_small d h = elim d.is_last as (λ q. AreBytes (if q then [] else d.fresh)) [ true ↦ tt | false ↦ h.fresh ]

pub halves_after : (d : Dialogue) (before after : Option Connection) (agreed : ℕ → ℕ → Agreement) (c : Change)
    → HasByteHalves d → HasByteHalves (dialogue_after d before after agreed c)
halves_after d before None agreed c h = record { half = tt; fresh = tt }
halves_after d None (Some n) agreed c h = record { half = tt; fresh = tt }
halves_after d (Some m) (Some n) agreed c h = go (is_some (receiver_of (Some m) c)) (changes_phase c)
  where
    b : ℕ
    b = c.after.data_bits % 256

    other : (q : Bool) → HasByteHalves (if q then record d {
      heard = Rattle.due_model.specs.bus_phases.specs.Dialogue.heard_with_command d.heard b;
      begun = true;
    } else record d { begun = true })
    other true = record { half = h.half; fresh = h.fresh }
    other false = record { half = h.half; fresh = h.fresh }

    crossing : (q r : Bool) → HasByteHalves
        (if q then byte_out d b (not c.after.atn) else if r then byte_in d b else byte_else d c.before b)
    crossing true r = record {
      half = left_small (got_out (d.half ++ b ∷ [])) (d.half ++ b ∷ []) (byte_more d.half c.after.data_bits h.half);
      fresh = left_small (got_out (fresh_bytes d ++ b ∷ [])) (fresh_bytes d ++ b ∷ [])
          (byte_more (fresh_bytes d) c.after.data_bits (fresh_small d h));
    }
    crossing false true = record {
      half = left_small (got_in (d.half ++ b ∷ [])) (d.half ++ b ∷ []) (byte_more d.half c.after.data_bits h.half);
      fresh = h.fresh;
    }
    crossing false false = other (is_command c.before)

    go : (q r : Bool) → HasByteHalves (if q then Rattle.due_model.specs.bus_phases.specs.Dialogue.byte_crosses d c
        else if r then phase_begins d else d)
    go true r = crossing (is_message_out c.before) (is_message_in c.before)
    go false true = record { half = tt; fresh = tt }
    go false false = h

pub told_out : (d : Dialogue) (c : Change) (q : Bool) (m : MsgOut) → HasByteHalves d → message_out d c q ≡ Some m
    → AreBytes (out_bytes m)
told_out d c false m h e = absurd (none_some m e)
told_out d c true m h e = go (is_message_out c.before) e
  where
    bytes : List ℕ
    bytes = fresh_bytes d ++ c.after.data_bits % 256 ∷ []

    go : (q : Bool) → (if q then whole_out (got_out bytes) else None) ≡ Some m → AreBytes (out_bytes m)
    go true z = out_small bytes (got_out bytes) m (byte_more (fresh_bytes d) c.after.data_bits (fresh_small d h)) refl z
    go false z = absurd (none_some m z)

pub told_in : (d : Dialogue) (c : Change) (q : Bool) (m : MsgIn) → HasByteHalves d → message_in d c q ≡ Some m
    → AreBytes (in_bytes m)
told_in d c false m h e = absurd (none_some m e)
told_in d c true m h e = go (is_message_in c.before) e
  where
    bytes : List ℕ
    bytes = d.half ++ c.after.data_bits % 256 ∷ []

    go : (q : Bool) → (if q then whole_in (got_in bytes) else None) ≡ Some m → AreBytes (in_bytes m)
    go true z = in_small bytes (got_in bytes) m (byte_more d.half c.after.data_bits h.half) refl z
    go false z = absurd (none_some m z)

-- ---- synchronous data transfer requests

abbrev pub IsSmallAgreement : Agreement → Type 0
IsSmallAgreement a = IsSmall a.period a.offset

max_small : (a b : ℕ) → a < 256 → b < 256 → max a b < 256
max_small a b x y = grind arith

min_small : (a b : ℕ) → b < 256 → min a b < 256
min_small a b y = grind arith

answer_small : (period offset : ℕ) (a : Agreement) → period < 256 → IsSmallAgreement a
    → IsSmallAgreement (agreement_answer period offset a)
answer_small period offset a e h = go (period == 0)
  where
    go : (q : Bool) → IsSmallAgreement (if q then record { period = a.period; offset = 0 } else record {
      period = max period a.period;
      offset = min offset a.offset;
    })
    go true = (h.0, omega arith)
    go false = (max_small period a.period e h.0, min_small offset a.offset h.1)

host_answer_small : (o : Option HostDef) (a : Agreement)
    → ((h : HostDef) → o ≡ Some h → IsSmallHost h) → IsSmallAgreement a → IsSmallAgreement (host_answer o a)
host_answer_small None a f h = answer_small 0 0 a (omega arith) h
host_answer_small (Some x) a f h = answer_small x.period x.offset a (f x refl).0 h

pub target_answer_small : (o : Option TargetDef) (a : Agreement)
    → ((t : TargetDef) → o ≡ Some t → IsSmallTarget t) → IsSmallAgreement a → IsSmallAgreement (target_answer o a)
target_answer_small None a f h = answer_small 0 0 a (omega arith) h
target_answer_small (Some x) a f h = answer_small x.period x.offset a (f x refl).0 h

pub offer_bytes : (a : Agreement) → IsSmallAgreement a → AreBytes (0x01 ∷ 0x03 ∷ 0x01 ∷ a.period ∷ a.offset ∷ [])
offer_bytes a h = (omega arith, (omega arith, (omega arith, (h.0, (h.1, tt)))))

pub host_small : (s : ScenarioValue) (dev : ℕ) (h : HostDef) → HasSmallLines s → host_of s dev ≡ Some h → IsSmallHost h
host_small s dev h l e = found_holds IsSmallHost (λ (x : HostDef). x.dev == dev) s.hosts h l.hosts e

pub target_small : (s : ScenarioValue) (dev : ℕ) (t : TargetDef) → HasSmallLines s → target_def_of s dev ≡ Some t
    → IsSmallTarget t
target_small s dev t l e = found_holds IsSmallTarget (λ (x : TargetDef). x.dev == dev) s.targets t l.targets e

-- ---- a process

abbrev pub IsSmallProcess : Process → Type 0
IsSmallProcess c = (c.unit < 8) × IsSmallTag c.tag

small_at : (commands : List CmdDef) (m : ℕ) (c : CmdDef) → AllByRecursion IsSmallCommand commands
    → command_at commands m ≡ Some c → IsSmallCommand c
small_at [] m c a e = cc
small_at (d ∷ commands) zero c a e = cc
small_at (d ∷ commands) (suc zero) c a e = subst IsSmallCommand (some_command d c e) a.0
  where
    some_command : (x y : CmdDef) → (let o : Option CmdDef = Some x in o) ≡ Some y → x ≡ y
    some_command x y z = cc
small_at (d ∷ commands) (suc (suc m)) c a e = small_at commands (suc m) c a.1 e

pub process_small : (s : ScenarioValue) (id : ProcId) (t : Process) → HasSmallLines s → process_of s id ≡ Some t
    → IsSmallProcess t
process_small s id t l e = go (command_at s.commands id.command) refl e
  where
    own : (c : CmdDef) (q : Bool) → IsSmallCommand c
        → IsSmallProcess (process_by s (record { command = id.command; sense = q }) c)
    own c true h = (h.0, tt)
    own c false h = h

    some_process : (x y : Process) → (let o : Option Process = Some x in o) ≡ Some y → x ≡ y
    some_process x y z = cc

    go : (c : Option CmdDef) → command_at s.commands id.command ≡ c → process_if s id c ≡ Some t → IsSmallProcess t
    go None f g = cc
    go (Some c) f g = subst IsSmallProcess (some_process (process_by s id c) t g)
        (own c id.sense (small_at s.commands id.command c l.commands f))

-- ---- the initiator

pub record HasByteWords (h : Speech) : Type 0 where
  pub words : AreBytes h.words
  pub asked : IsSmallAgreement h.asked

tag_small : (t : Tag) → IsSmallTag t → AreBytes (tag_bytes t)
tag_small Tag.Untagged h = tt
tag_small _ h = (omega arith, (h, tt))

offer_small : (q : Bool) (o : Option HostDef) → ((h : HostDef) → o ≡ Some h → IsSmallHost h) → AreBytes (offer_if q o)
offer_small false o f = tt
offer_small true None f = tt
offer_small true (Some h) f = go (h.offers && nat_lt 0 h.period)
  where
    go : (q : Bool) → AreBytes (if q then 0x01 ∷ 0x03 ∷ 0x01 ∷ h.period ∷ h.offset ∷ [] else [])
    go true = offer_bytes (record { period = h.period; offset = h.offset }) (f h refl)
    go false = tt

name_small : (q : Bool) (m : ℕ) → m < 8 → AreBytes ((if q then 0xc0 + m else 0x80 + m) ∷ [])
name_small true m h = (omega arith, tt)
name_small false m h = (omega arith, tt)

process_words : (o : Option HostDef) (q : Bool) (x : Option Process) → ((h : HostDef) → o ≡ Some h → IsSmallHost h)
    → ((c : Process) → x ≡ Some c → IsSmallProcess c) → AreBytes (process_opening o q x)
process_words o q None f g = tt
process_words o q (Some c) f g =
    let w = g c refl in
    small_append ((if not c.id.sense then 0xc0 + c.unit else 0x80 + c.unit) ∷ [])
    (tag_bytes c.tag ++ offer_if q o) (name_small (not c.id.sense) c.unit w.0)
    (small_append (tag_bytes c.tag) (offer_if q o) (tag_small c.tag w.1) (offer_small q o f))

kind_small : (w : AbortKind) → IsSmallKind w → AreBytes (abort_bytes w)
kind_small (AbortKind.Tag n) h = (omega arith, (h, (omega arith, tt)))
kind_small _ h = (omega arith, tt)

abort_words : (aborts : List AbortDef) (m : ℕ) → AllByRecursion IsSmallAbort aborts
    → AreBytes (abort_opening (abort_line_at aborts m))
abort_words [] m a = tt
abort_words (x ∷ aborts) zero a = tt
abort_words (x ∷ aborts) (suc zero) a = ((name_small false x.unit (a.0).0).0, kind_small x.what (a.0).1)
abort_words (x ∷ aborts) (suc (suc m)) a = abort_words aborts (suc m) a.1

pub opening_small : (s : ScenarioValue) (dev : ℕ) (q : Bool) (item : Option Item) → HasSmallLines s
    → AreBytes (opening s dev q item)
opening_small s dev q None l = tt
opening_small s dev q (Some (process id)) l =
    process_words (host_of s dev) q (process_of s id) (λ h e. host_small s dev h l e) (λ p e. process_small s id p l e)
opening_small s dev q (Some (abort n)) l = abort_words s.aborts n l.aborts

request_small : (a : Agreement) (m : Option MsgIn) → IsSmallAgreement a
    → ((x : MsgIn) → m ≡ Some x → AreBytes (in_bytes x)) → IsSmallAgreement (request_after a m)
request_small a None h f = h
request_small a (Some MsgIn.CommandComplete) h f = h
request_small a (Some MsgIn.SavePointer) h f = h
request_small a (Some MsgIn.RestorePointers) h f = h
request_small a (Some MsgIn.Disconnect) h f = h
request_small a (Some (MsgIn.Identify n)) h f = h
request_small a (Some (MsgIn.SimpleTag n)) h f = h
request_small a (Some (MsgIn.Sdtr x)) h f = let w = f (MsgIn.Sdtr x) refl in (w.1.1.1.0, w.1.1.1.1.0)
request_small a (Some MsgIn.Reject) h f = h

pub words_on : (o : Option HostDef) (w : Hearing) (y : Speech) → ((h : HostDef) → o ≡ Some h → IsSmallHost h)
    → ((x : MsgIn) → w.into ≡ Some x → AreBytes (in_bytes x)) → HasByteWords y → HasByteWords (speech_after o w y)
words_on o w y f g h = go (changes_phase w.change) w.crosses
  where
    said : (q r : Bool) → AreBytes (if q then 0x05 ∷ [] else if r then 0x09 ∷ [] else answer_bytes o y.asked)
    said true r = (omega arith, tt)
    said false true = (omega arith, tt)
    said false false = offer_bytes (host_answer o y.asked) (host_answer_small o y.asked f h.asked)

    phase : (q : Bool)
        → HasByteWords (if q then record y { words = words_after o w y.asked; place = 0 } else record y { place = 0 })
    phase true = record { words = said (not (is_message_in w.change.before)) w.struck; asked = h.asked }
    phase false = record { words = h.words; asked = h.asked }

    byte :
        (q : Bool) → HasByteWords (if q then speech_after_byte y else record y { asked = request_after y.asked w.into })
    byte true = record { words = h.words; asked = h.asked }
    byte false = record { words = h.words; asked = request_small y.asked w.into h.asked g }

    go : (q r : Bool)
        → HasByteWords (if q then Rattle.due_model.specs.dialogue_model.specs.Speaking.speech_in_phase o w y
        else if r then Rattle.due_model.specs.dialogue_model.specs.Speaking.speech_with_byte w y else y)
    go true r = phase (is_message_out w.change.after && w.begun)
    go false true = byte (is_message_out w.change.before)
    go false false = h
