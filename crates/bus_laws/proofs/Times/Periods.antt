-- The transfer period factor and the REQ/ACK offset of every agreement are bytes: they came in a message.
use Rattle.bus_laws.proofs
use proofs.Names.{ℕ, ◌<◌, ◌%◌, Bool, true, false, not, ◌&&◌, List, [], ◌∷◌, ◌++◌, Option, Some, None, arith, inl, inr}
use proofs.Names.{cases_Bool, AllByRecursion, if◌then◌else◌, ◌==◌, is_some, change_of, is_message_out, is_message_in}
use proofs.Names.{is_command, changes_phase, connection, receiver_of, bus, Row, Agreement, Change, Connection, Form}
use proofs.Names.{alone, tagged, extended, reserved, got_after, got_by, got_tag, got_fields, got_code, got_offer}
use proofs.Names.{as_got, form_out, form_in, got_out, got_in, is_of_eight, Got, Whole, More, Unknown, MsgIn, MsgOut}
use proofs.Names.{word_out, word_in, spoken_with_word, is_of_other, void_or_now, heard_with_out, heard_with_command}
use proofs.Names.{void_with_byte, opened, heard_out, heard_in, fresh_bytes, fresh_heard, byte_out, heard_if_begun}
use proofs.Names.{byte_in, byte_crosses, phase_begins, dialogue_on, closed_agreement_by, dialogue_after, agreed}
use proofs.Names.{dialogue, asynchronous, left_of, Dialogue, Heard, Spoken, End, Word}

-- ---- messages

abbrev AreBytes : List ℕ → Type 0
AreBytes bytes = AllByRecursion (λ (b : ℕ). b < 256) bytes

abbrev IsByteAgreement : Agreement → Type 0
IsByteAgreement a = (a.period < 256) × (a.offset < 256)

abbrev IsShortWord : Word → Type 0
IsShortWord (Word.Offer a) = IsByteAgreement a
IsShortWord _ = Unit {0}

-- Whatever message a first byte of this form makes with bytes after it.
abbrev IsShortForm : {M : Type 0} → (M → Word) → Form M → Type 0
IsShortForm word (alone m) = IsShortWord (word m)
IsShortForm word (tagged message) = (tag : ℕ) → IsShortWord (word (message tag))
IsShortForm word (extended message) = (a : Agreement) → IsByteAgreement a → IsShortWord (word (message a))
IsShortForm word reserved = Unit {0}

form_if : {M : Type 0} → (word : M → Word) (q : Bool) (x y : Form M) → IsShortForm word x → IsShortForm word y
    → IsShortForm word (if q then x else y)
form_if word true x y a b = a
form_if word false x y a b = b

short_out : (b : ℕ) → IsShortForm word_out (form_out b)
unfolding form_out
short_out b =
    form_if word_out (b == 0x01) _ _ (λ a h. h)
    (form_if word_out (b == 0x05) _ _ tt
    (form_if word_out (b == 0x06) _ _ tt
    (form_if word_out (b == 0x07) _ _ tt
    (form_if word_out (b == 0x08) _ _ tt
    (form_if word_out (b == 0x09) _ _ tt
    (form_if word_out (b == 0x0c) _ _ tt
    (form_if word_out (b == 0x0d) _ _ tt
    (form_if word_out (b == 0x0e) _ _ tt
    (form_if word_out (b == 0x20) _ _ (λ tag. tt)
    (form_if word_out (b == 0x21) _ _ (λ tag. tt)
    (form_if word_out (b == 0x22) _ _ (λ tag. tt)
    (form_if word_out (is_of_eight 0x80 b) _ _ tt
    (form_if word_out (is_of_eight 0xc0 b) _ _ tt tt)))))))))))))

short_in : (b : ℕ) → IsShortForm word_in (form_in b)
unfolding form_in
short_in b =
    form_if word_in (b == 0x00) _ _ tt
    (form_if word_in (b == 0x01) _ _ (λ a h. h)
    (form_if word_in (b == 0x02) _ _ tt
    (form_if word_in (b == 0x03) _ _ tt
    (form_if word_in (b == 0x04) _ _ tt
    (form_if word_in (b == 0x07) _ _ tt
    (form_if word_in (b == 0x20) _ _ (λ tag. tt)
    (form_if word_in (is_of_eight 0x80 b) _ _ tt tt)))))))

abbrev IsShortGot : {M : Type 0} → (M → Word) → Got M → Type 0
IsShortGot word (Whole m n) = IsShortWord (word m)
IsShortGot word More = Unit {0}
IsShortGot word Unknown = Unit {0}

offer_short : {M : Type 0} → (word : M → Word) (message : Agreement → M) (bytes : List ℕ)
    → ((a : Agreement) → IsByteAgreement a → IsShortWord (word (message a))) → AreBytes bytes
    → IsShortGot word (as_got message (got_offer bytes))
offer_short word message [] f h = tt
offer_short word message (len ∷ bytes) f h = by_len (len == 0x03)
  where
    fields : (x : List ℕ) → AreBytes x → IsShortGot word (as_got message (got_fields x))
    fields [] g = tt
    fields (period ∷ []) g = tt
    fields (period ∷ offset ∷ x) g = f (record { period = period; offset = offset }) (g.0, g.1.0)

    code : (x : List ℕ) → AreBytes x → IsShortGot word (as_got message (got_code x))
    code [] g = tt
    code (c ∷ x) g = elim (cases_Bool (c == 0x01)) [ inl e ↦ rw e (fields x g.1) | inr e ↦ rw e tt ]

    by_len : (q : Bool) → IsShortGot word (as_got message (if q then got_code bytes else Unknown))
    by_len true = code bytes h.1
    by_len false = tt

got_short : {M : Type 0} → (word : M → Word) (form : ℕ → Form M) (bytes : List ℕ)
    → ((b : ℕ) → IsShortForm word (form b)) → AreBytes bytes → IsShortGot word (got_by form bytes)
got_short {M = M} word form [] f h = tt
got_short {M = M} word form (first ∷ bytes) f h = go (form first) (f first)
  where
    tag : (message : ℕ → M) (x : List ℕ) → ((t : ℕ) → IsShortWord (word (message t)))
        → IsShortGot word (as_got message (got_tag x))
    tag message [] g = tt
    tag message (t ∷ x) g = g t

    go : (e : Form M) → IsShortForm word e → IsShortGot word (got_after e bytes)
    go (alone m) g = g
    go (tagged message) g = tag message bytes g
    go (extended message) g = offer_short word message bytes g h.1
    go reserved g = tt

-- ---- what is heard

abbrev IsShortVoid : Option Spoken → Type 0
IsShortVoid None = Unit {0}
IsShortVoid (Some v) = IsByteAgreement v.agreement

record IsShortHeard (h : Heard) : Type 0 where
  now : IsByteAgreement h.now.agreement
  void : IsShortVoid h.void

word_short : (v : Spoken) (end : End) (w : Word) → IsByteAgreement v.agreement → IsShortWord w
    → IsByteAgreement (spoken_with_word v end w).agreement
word_short v end (Word.Offer a) h g = go (is_of_other v.offer end)
  where
    go : (q : Bool) → IsByteAgreement (if q then record v { agreement = a; offer = None; answered = Some end }
        else record v { offer = Some end; answered = None }).agreement
    go true = g
    go false = h
word_short v end Word.Reject h g = go (is_of_other v.offer end) (is_of_other v.answered end)
  where
    go : (q r : Bool) → IsByteAgreement
        (if q then record v { agreement = record v.agreement { offset = 0 }; offer = None; answered = None }
        else if r then record v { agreement = record v.agreement { offset = 0 }; answered = None }
        else record v { answered = None }).agreement
    go true r = (h.0, omega arith)
    go false true = (h.0, omega arith)
    go false false = h
word_short v end Word.DeviceReset h g = (h.0, omega arith)
word_short v end _ h g = h

void_short : (o : Option Spoken) (v : Spoken) → IsShortVoid o → IsByteAgreement v.agreement
    → IsByteAgreement (void_or_now o v).agreement
void_short None v a b = b
void_short (Some w) v a b = a

out_short : (h : Heard) (w : Word) → IsShortHeard h → IsShortWord w → IsShortHeard (heard_with_out h w)
out_short h (Word.Offer a) e g = record { now = word_short h.now End.Initiator (Word.Offer a) e.now g; void = tt }
out_short h Word.Reject e g = record { now = word_short h.now End.Initiator Word.Reject e.now g; void = tt }
out_short h Word.Restore e g = record { now = e.now; void = tt }
out_short h Word.DeviceReset e g = record { now = (e.now.0, omega arith); void = tt }
out_short h Word.ParityError e g = record { now = void_short h.void h.now e.void e.now; void = tt }
out_short h Word.Other e g = record { now = e.now; void = tt }

heard_out_short : (h : Heard) (g : Got MsgOut) → IsShortHeard h → IsShortGot word_out g → IsShortHeard (heard_out h g)
heard_out_short h (Whole m n) e g = out_short h (word_out m) e g
heard_out_short h More e g = e
heard_out_short h Unknown e g = e

heard_in_short : (h : Heard) (g : Got MsgIn) → IsShortHeard h → IsShortGot word_in g → IsShortHeard (heard_in h g)
heard_in_short h (Whole m n) e g = record { now = word_short h.now End.Target (word_in m) e.now g; void = e.void }
heard_in_short h More e g = e
heard_in_short h Unknown e g = e

command_short : (h : Heard) (byte : ℕ) → IsShortHeard h → IsShortHeard (heard_with_command h byte)
command_short h byte e = record { now = e.now; void = go h.void e.void }
  where
    go : (o : Option Spoken) → IsShortVoid o → IsShortVoid (void_with_byte o byte)
    go None x = tt
    go (Some v) x = x

-- ---- a connection

asynchronous_bytes : IsByteAgreement asynchronous
asynchronous_bytes = (omega arith, omega arith)

record IsShortDialogue (d : Dialogue) : Type 0 where
  heard : IsShortHeard d.heard
  at_phase : IsShortHeard d.at_phase
  half : AreBytes d.half
  fresh : AreBytes d.fresh

more_bytes : (bytes : List ℕ) (b : ℕ) → AreBytes bytes → b < 256 → AreBytes (bytes ++ b ∷ [])
more_bytes [] b h e = (e, tt)
more_bytes (x ∷ bytes) b h e = (h.0, more_bytes bytes b h.1 e)

left_bytes : {M : Type 0} → (g : Got M) (bytes : List ℕ) → AreBytes bytes → AreBytes (left_of g bytes)
left_bytes (Whole m n) bytes h = tt
left_bytes More bytes h = h
left_bytes Unknown bytes h = tt

opened_short : (a : Agreement) → IsByteAgreement a → IsShortDialogue (opened a)
opened_short a h =
    record { heard = record { now = h; void = tt }; at_phase = record { now = h; void = tt }; half = tt; fresh = tt }

out_byte_short : (d : Dialogue) (b : ℕ) (last : Bool) → IsShortDialogue d → b < 256
    → IsShortDialogue (byte_out d b last)
out_byte_short d b last e h =
    let f = fresh_short d.is_last in
    let fb = more_bytes (fresh_bytes d) b f h in
    let hb = more_bytes d.half b e.half h in
    record {
      heard = heard_out_short (fresh_heard d) (got_out (fresh_bytes d ++ b ∷ [])) (heard_short d.is_last)
          (got_short word_out form_out (fresh_bytes d ++ b ∷ []) short_out fb);
      at_phase = e.at_phase;
      half = left_bytes (got_out (d.half ++ b ∷ [])) (d.half ++ b ∷ []) hb;
      fresh = left_bytes (got_out (fresh_bytes d ++ b ∷ [])) (fresh_bytes d ++ b ∷ []) fb;
    }
  where
    fresh_short : (q : Bool) → AreBytes (if q then [] else d.fresh)
    fresh_short true = tt
    fresh_short false = e.fresh

    heard_short : (q : Bool) → IsShortHeard (if q then d.at_phase else d.heard)
    heard_short true = e.at_phase
    heard_short false = e.heard

in_byte_short : (d : Dialogue) (b : ℕ) → IsShortDialogue d → b < 256 → IsShortDialogue (byte_in d b)
in_byte_short d b e h =
    let hb = more_bytes d.half b e.half h in
    record {
      heard = heard_in_short (heard_if_begun d.half d.heard) (got_in (d.half ++ b ∷ [])) (begun d.half)
          (got_short word_in form_in (d.half ++ b ∷ []) short_in hb);
      at_phase = e.at_phase;
      half = left_bytes (got_in (d.half ++ b ∷ [])) (d.half ++ b ∷ []) hb;
      fresh = e.fresh;
    }
  where
    begun : (x : List ℕ) → IsShortHeard (heard_if_begun x d.heard)
    begun [] = record { now = e.heard.now; void = e.heard.now }
    begun (y ∷ x) = e.heard

below_256 : (m : ℕ) → m % 256 < 256
below_256 m = omega arith

crosses_short : (d : Dialogue) (c : Change) → IsShortDialogue d → IsShortDialogue (byte_crosses d c)
crosses_short d c e = go (is_message_out c.before) (is_message_in c.before) (is_command c.before)
  where
    b : ℕ
    b = c.after.data_bits % 256

    go : (q r x : Bool) → IsShortDialogue (if q then byte_out d (c.after.data_bits % 256) (not c.after.atn)
        else if r then byte_in d (c.after.data_bits % 256)
        else if x then record d { heard = heard_with_command d.heard (c.after.data_bits % 256); begun = true }
        else record d { begun = true })
    go true r x = out_byte_short d (c.after.data_bits % 256) (not c.after.atn) e (below_256 c.after.data_bits)
    go false true x = in_byte_short d (c.after.data_bits % 256) e (below_256 c.after.data_bits)
    go false false true = record {
      heard = command_short d.heard (c.after.data_bits % 256) e.heard;
      at_phase = e.at_phase;
      half = e.half;
      fresh = e.fresh;
    }
    go false false false = record { heard = e.heard; at_phase = e.at_phase; half = e.half; fresh = e.fresh }

on_short : (d : Dialogue) (o : Option Connection) (c : Change) → IsShortDialogue d → IsShortDialogue (dialogue_on d o c)
on_short d o c e = go (is_some (receiver_of o c)) (changes_phase c)
  where
    go : (q r : Bool) → IsShortDialogue (if q then byte_crosses d c else if r then phase_begins d else d)
    go true r = crosses_short d c e
    go false true = record { heard = e.heard; at_phase = e.heard; half = tt; fresh = tt }
    go false false = e

after_short : (d : Dialogue) (m o : Option Connection) (f : ℕ → ℕ → Agreement) (c : Change) → IsShortDialogue d
    → ((i t : ℕ) → IsByteAgreement (f i t)) → IsShortDialogue (dialogue_after d m o f c)
after_short d m None f c e g = opened_short asynchronous asynchronous_bytes
after_short d None (Some n) f c e g = opened_short (f n.initiator n.target) (g n.initiator n.target)
after_short d (Some m) (Some n) f c e g = on_short d (Some m) c e

record IsShort (rows : List Row) : Type 0 where
  dialogue_is : IsShortDialogue (dialogue rows)
  agreed_is : (i t : ℕ) → IsByteAgreement (agreed rows i t)

rst_short : (q : Bool) (x : Agreement) → IsByteAgreement x → IsByteAgreement (if q then asynchronous else x)
rst_short true x h = asynchronous_bytes
rst_short false x h = h

closed_short : (o : Option Connection) (stands : Bool) (v : Spoken) (i t : ℕ) (was : Agreement)
    → IsByteAgreement v.agreement → IsByteAgreement was → IsByteAgreement (closed_agreement_by o stands v i t was)
closed_short None stands v i t was a b = b
closed_short (Some n) true v i t was a b = b
closed_short (Some n) false v i t was a b = go (i == n.initiator && t == n.target) (t == n.target && v.device_reset)
  where
    go : (q r : Bool) → IsByteAgreement (if q then v.agreement else if r then asynchronous else was)
    go true r = a
    go false true = asynchronous_bytes
    go false false = b

short_rows : (rows : List Row) → IsShort rows
short_rows [] =
    record { dialogue_is = opened_short asynchronous asynchronous_bytes; agreed_is = λ i t. asynchronous_bytes }
short_rows (row ∷ rows) =
    let was = short_rows rows in
    record {
      dialogue_is = after_short (dialogue rows) (connection rows) (connection (row ∷ rows)) (agreed rows)
          (change_of rows row) was.dialogue_is was.agreed_is;
      agreed_is = λ i t. rst_short (bus (row ∷ rows)).rst (closed_agreement_by (connection rows) (bus (row ∷ rows)).bsy
          (dialogue rows).heard.now i t (agreed rows i t)) (closed_short (connection rows) (bus (row ∷ rows)).bsy
          (dialogue rows).heard.now i t (agreed rows i t) was.dialogue_is.heard.now (was.agreed_is i t));
    }

-- The agreement of the connection that stands.
pub period_is_byte : (rows : List Row) → (dialogue rows).heard.now.agreement.period < 256
period_is_byte rows = (short_rows rows).dialogue_is.heard.now.0

pub offset_is_byte : (rows : List Row) → (dialogue rows).heard.now.agreement.offset < 256
offset_is_byte rows = (short_rows rows).dialogue_is.heard.now.1
