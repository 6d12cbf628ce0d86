-- The names that the messages of a target have told, in a connection that it began: IDENTIFY, and a tag as the next
-- message (6.5, 6.6.7, 6.6.17). They are told once the plan's messages have come that name the process.
use Rattle.transcript_laws.proofs
use proofs.Names.{ℕ, ◌≡◌, ◌∙◌, ◌+◌, ◌<◌, Bool, true, false, not, List, [], ◌∷◌, ◌++◌, length, Option, Some, None, refl}
use proofs.Names.{sym, ap, subst, arith, ◌-◌, ◌==◌, append_assoc, append-nil, is_some, is_none, slice_index_or}
use proofs.Names.{if◌then◌else◌, wrong, wrong', and_first, and_second, Connection, form_in, got_in, MsgIn, MsgOut}
use proofs.Names.{is_nil, left_of, tag_number, whole_in, bytes_of_messages, message_bytes, from_byte, one_message}
use proofs.Names.{naming_messages, tag_named, is_name, is_naming, Messages, all_bytes, identify_got, Tagged, bare}
use proofs.Names.{numbered, tagged_is, no_summary, named, unit_in, tag_in, summary_of, summary_in, summary_out, Part}
use proofs.{Names.{Loss, Summary, out_parts, summary_by}, Said.Naming.{outs_of, is_tame, are_tame}}
use Rattle.due_model.specs.array_model.specs.Processes.{Process}
use Rattle.due_model.specs.msg_grammar.specs.Grammar.{is_abort}

-- ---- the messages of a target among parts

abbrev pub in_if : Part → List MsgIn
in_if (Part.In m) = m ∷ []
in_if _ = []

abbrev pub ins_of : List Part → List MsgIn
ins_of [] = []
ins_of (part ∷ parts) = in_if part ++ ins_of parts

pub ins_append : (xs ys : List Part) → ins_of (xs ++ ys) ≡ ins_of xs ++ ins_of ys
ins_append [] ys = refl
ins_append (x ∷ xs) ys =
    ap (λ (m : List MsgIn). in_if x ++ m) (ins_append xs ys) ∙ sym (append_assoc (in_if x) (ins_of xs) (ins_of ys))

pub ins_said : (said : List MsgOut) → ins_of (out_parts said) ≡ []
ins_said [] = refl
ins_said (m ∷ said) = ins_said said

-- ---- the names that they tell

abbrev pub heard_names : Summary → List MsgIn → Summary
heard_names a [] = a
heard_names a (m ∷ ms) = heard_names (named a (unit_in m) (tag_in m)) ms

pub heard_append : (a : Summary) (xs ys : List MsgIn) → heard_names a (xs ++ ys) ≡ heard_names (heard_names a xs) ys
heard_append a [] ys = refl
heard_append a (x ∷ xs) ys = heard_append (named a (unit_in x) (tag_in x)) xs ys

-- The summary but for its abort and its departure.
abbrev told : Summary → Summary
told a = record a { abort = None; departure = Loss }

told_named : (a : Summary) (m : MsgIn) → told (summary_in true a m) ≡ named (told a) (unit_in m) (tag_in m)
told_named a m = go (is_none a.unit) a.awaits_tag
  where
    go : (x y : Bool) → told (if x then record a { unit = unit_in m; awaits_tag = is_some (unit_in m) }
        else if y then record a { tag = tag_in m; awaits_tag = false } else a)
        ≡ (if x then record (told a) { unit = unit_in m; awaits_tag = is_some (unit_in m) }
        else if y then record (told a) { tag = tag_in m; awaits_tag = false } else told a)
    go true y = refl
    go false true = refl
    go false false = refl

pub told_same : (parts : List Part) (a : Summary) → told (summary_of true a parts) ≡ heard_names (told a) (ins_of parts)
told_same [] a = refl
told_same (Part.Out m ∷ parts) a = told_same parts (summary_out true a m)
told_same (Part.In m ∷ parts) a =
    told_same parts (summary_in true a m) ∙ ap (λ (x : Summary). heard_names x (ins_of parts)) (told_named a m)
told_same (Part.BrokenOff ∷ parts) a = told_same parts (record a { departure = Loss })
told_same (Part.Command bytes struck left ∷ parts) a = told_same parts a
told_same (Part.Data out bytes ∷ parts) a = told_same parts a
told_same (Part.StatusPhase ∷ parts) a = told_same parts a
told_same (Part.Status byte ∷ parts) a = told_same parts a
told_same (Part.Completion ∷ parts) a = told_same parts a

-- ---- no abort among them

named_abort : (a : Summary) (u t : Option ℕ) → (named a u t).abort ≡ a.abort
named_abort a u t = go (is_none a.unit) a.awaits_tag
  where
    go : (x y : Bool) → (if x then record a { unit = u; awaits_tag = is_some u }
        else if y then record a { tag = t; awaits_tag = false } else a).abort ≡ a.abort
    go true y = refl
    go false true = refl
    go false false = refl

tame_out : (a : Summary) (m : MsgOut) → is_tame m ≡ true → a.abort ≡ None → (summary_out true a m).abort ≡ None
tame_out a m e f = go (is_abort m) e
  where
    go : (q : Bool) → not q ≡ true → (if q then Some m else a.abort) ≡ None
    go true z = wrong' z
    go false z = f

tame_parts : (parts : List Part) (a : Summary) → are_tame (outs_of parts) ≡ true → a.abort ≡ None
    → (summary_of true a parts).abort ≡ None
tame_parts [] a e f = f
tame_parts (Part.Out m ∷ parts) a e f = tame_parts parts (summary_out true a m) (and_second (is_tame m)
    (are_tame (outs_of parts)) e) (tame_out a m (and_first (is_tame m) (are_tame (outs_of parts)) e) f)
tame_parts (Part.In m ∷ parts) a e f =
    tame_parts parts (summary_in true a m) e (named_abort a (unit_in m) (tag_in m) ∙ f)
tame_parts (Part.BrokenOff ∷ parts) a e f = tame_parts parts (record a { departure = Loss }) e f
tame_parts (Part.Command bytes struck left ∷ parts) a e f = tame_parts parts a e f
tame_parts (Part.Data out bytes ∷ parts) a e f = tame_parts parts a e f
tame_parts (Part.StatusPhase ∷ parts) a e f = tame_parts parts a e f
tame_parts (Part.Status byte ∷ parts) a e f = tame_parts parts a e f
tame_parts (Part.Completion ∷ parts) a e f = tame_parts parts a e f

pub again_abort : (n : Connection) (parts : List Part) → n.reselected ≡ true → are_tame (outs_of parts) ≡ true
    → (summary_by n parts).abort ≡ None
again_abort n parts re e =
    ap (λ (q : Bool). (summary_of q no_summary parts).abort) re ∙ tame_parts parts no_summary e refl

-- ---- the names of a process

pub record AreNames (a : Summary) (q : Process) : Type 0 where
  pub unit : a.unit ≡ Some q.unit
  pub tag : a.tag ≡ tag_number q.tag
  pub awaits : a.awaits_tag ≡ true → tag_number q.tag ≡ None

no_tag : (m : MsgIn) → is_name m ≡ false → tag_in m ≡ None
no_tag (MsgIn.SimpleTag tag) e = wrong e
no_tag _ e = refl

-- They stay with any message that is no name.
pub names_stay : (a : Summary) (q : Process) (m : MsgIn) → is_name m ≡ false → AreNames a q
    → AreNames (named a (unit_in m) (tag_in m)) q
names_stay a q m e h = subst
    (λ (x : Bool). AreNames (if x then record a { unit = unit_in m; awaits_tag = is_some (unit_in m) }
    else if a.awaits_tag then record a { tag = tag_in m; awaits_tag = false } else a) q)
    (sym (ap (λ (x : Option ℕ). is_none x) h.unit)) (go a.awaits_tag refl)
  where
    go : (y : Bool) → a.awaits_tag ≡ y → AreNames (if y then record a { tag = tag_in m; awaits_tag = false } else a) q
    go true f = record { unit = h.unit; tag = no_tag m e ∙ sym (h.awaits f); awaits = λ z. wrong' z }
    go false f = h

pub names_of_parts : (n : Connection) (q : Process) (parts : List Part)
    → n.reselected ≡ true → AreNames (heard_names no_summary (ins_of parts)) q
    → ((summary_by n parts).unit ≡ Some q.unit) × ((summary_by n parts).tag ≡ tag_number q.tag)
names_of_parts n q parts re h =
    let is : told (summary_by n parts) ≡ heard_names no_summary (ins_of parts) =
    ap (λ (x : Bool). told (summary_of x no_summary parts)) re ∙ told_same parts no_summary in
    (ap (λ (x : Summary). x.unit) is ∙ h.unit, ap (λ (x : Summary). x.tag) is ∙ h.tag)

-- ---- tagged or not

pub record IsTag (q : Process) (t : ℕ) : Type 0 where
  pub named : tag_named q.tag ≡ Some (MsgIn.SimpleTag t)
  pub number : tag_number q.tag ≡ Some t

-- ---- as they are said

abbrev identity : Process → List MsgIn
identity q = MsgIn.Identify q.unit ∷ []

abbrev tag_message : ℕ → List MsgIn
tag_message t = MsgIn.SimpleTag t ∷ []

-- So many bytes of the plan's messages have crossed, of which these are heard half; so these messages are settled, and
-- this one is held, which MESSAGE PARITY ERROR would make void.
pub data Says (q : Process) (messages : Messages) (count : ℕ) (half : List ℕ) (parts held : List MsgIn) : Type 0 where
  none_said : messages ≡ naming_messages q → count ≡ 0 → half ≡ [] → parts ≡ [] → held ≡ []
      → Says q messages count half parts held
  unit_said : messages ≡ naming_messages q → count ≡ 1 → half ≡ [] → parts ≡ [] → held ≡ identity q
      → Says q messages count half parts held
  tag_begun : (t : ℕ) → IsTag q t → messages ≡ naming_messages q → count ≡ 2 → half ≡ 0x20 ∷ [] → parts ≡ []
      → held ≡ identity q → Says q messages count half parts held
  all_said : (t : ℕ) → IsTag q t → messages ≡ naming_messages q → count ≡ 3 → half ≡ [] → parts ≡ identity q
      → held ≡ tag_message t → Says q messages count half parts held
  tag_left : (t : ℕ) → IsTag q t → messages ≡ one_message (MsgIn.SimpleTag t) → count ≡ 0 → half ≡ []
      → parts ≡ identity q → held ≡ [] → Says q messages count half parts held
  left_begun : (t : ℕ) → IsTag q t → messages ≡ one_message (MsgIn.SimpleTag t) → count ≡ 1 → half ≡ 0x20 ∷ []
      → parts ≡ identity q → held ≡ [] → Says q messages count half parts held
  left_said : (t : ℕ) → IsTag q t → messages ≡ one_message (MsgIn.SimpleTag t) → count ≡ 2 → half ≡ []
      → parts ≡ identity q → held ≡ tag_message t → Says q messages count half parts held

-- After MESSAGE PARITY ERROR these are said again.
pub data Repeats (q : Process) (messages : Messages) (parts : List MsgIn) : Type 0 where
  all_again : messages ≡ naming_messages q → parts ≡ [] → Repeats q messages parts
  tag_again : (t : ℕ) → IsTag q t → messages ≡ one_message (MsgIn.SimpleTag t) → parts ≡ identity q
      → Repeats q messages parts

pub says_again : (q : Process) (messages : Messages) (parts held : List MsgIn) (half : List ℕ) (count : ℕ)
    → Repeats q messages parts → count ≡ 0 → half ≡ [] → held ≡ [] → Says q messages count half parts held
says_again q messages parts held half count (all_again em ep) ec eh el = none_said em ec eh ep el
says_again q messages parts held half count (tag_again t h em ep) ec eh el = tag_left t h em ec eh ep el

-- ---- their bytes

left_bytes : (messages : Messages) (t : ℕ) → messages ≡ one_message (MsgIn.SimpleTag t)
    → bytes_of_messages messages ≡ 0x20 ∷ t ∷ []
left_bytes messages t e = ap bytes_of_messages e

tag_opens : (whole_in (got_in (0x20 ∷ [])) ≡ None) × (left_of (got_in (0x20 ∷ [])) (0x20 ∷ []) ≡ 0x20 ∷ [])
unfolding form_in
tag_opens = (refl, refl)

tag_got : (t : ℕ) → (whole_in (got_in (0x20 ∷ t ∷ [])) ≡ Some (MsgIn.SimpleTag t))
    × (left_of (got_in (0x20 ∷ t ∷ [])) (0x20 ∷ t ∷ []) ≡ [])
unfolding form_in
tag_got t = (refl, refl)

-- ---- with the next byte

abbrev pub settled_with : List MsgIn → List MsgIn → Option MsgIn → List MsgIn
settled_with parts held None = parts
settled_with parts held (Some m) = parts ++ held

abbrev pub held_with : List MsgIn → Option MsgIn → List MsgIn
held_with held None = held
held_with held (Some m) = m ∷ []

abbrev Next : Process → Messages → ℕ → List MsgIn → List MsgIn → List ℕ → Type 0
Next q messages count parts held bytes = Says q messages (count + 1) (left_of (got_in bytes) bytes)
    (settled_with parts held (whole_in (got_in bytes))) (held_with held (whole_in (got_in bytes)))

-- The bytes of the message so far, with the next one.
next_bytes : (bytes half is now : List ℕ) (count at byte : ℕ) → bytes ≡ is → half ≡ now → count ≡ at
    → byte ≡ slice_index_or bytes count 0 → half ++ byte ∷ [] ≡ now ++ slice_index_or is at 0 ∷ []
next_bytes bytes half is now count at byte eb eh ec e = λ i. eh i ++ (e ∙ (λ j. slice_index_or (eb j) (ec j) 0)) i ∷ []

none_left : {A : Type 0} (bytes is : List ℕ) (count at : ℕ) → bytes ≡ is → count ≡ at → at ≡ length is
    → count < length bytes → A
none_left bytes is count at eb ec full lt = let n = ap (λ (x : List ℕ). length x) eb in absurd (omega arith)

on_unit : (q : Process) (messages : Messages) (count : ℕ) (parts held : List MsgIn) (bytes : List ℕ) → q.unit < 8
    → messages ≡ naming_messages q → count ≡ 0 → parts ≡ [] → held ≡ [] → bytes ≡ (0x80 + q.unit) ∷ []
    → Next q messages count parts held bytes
on_unit q messages count parts held bytes lt em ec ep el eb =
    let got = identify_got q.unit lt in
    let whole : whole_in (got_in bytes) ≡ Some (MsgIn.Identify q.unit) = ap (λ (x : List ℕ). whole_in (got_in x)) eb
    ∙ got.0 in
    unit_said em (ap (λ (x : ℕ). x + 1) ec) (ap (λ (x : List ℕ). left_of (got_in x) x) eb ∙ got.1)
    (λ i. settled_with (ep i) (el i) (whole i)) (λ i. held_with held (whole i))

pub says_on : (q : Process) (messages : Messages) (half : List ℕ) (count byte : ℕ) (parts held : List MsgIn)
    → q.unit < 8 → byte ≡ slice_index_or (bytes_of_messages messages) count 0
    → count < length (bytes_of_messages messages) → Says q messages count half parts held
    → Says q messages (count + 1) (left_of (got_in (half ++ byte ∷ [])) (half ++ byte ∷ []))
    (settled_with parts held (whole_in (got_in (half ++ byte ∷ []))))
    (held_with held (whole_in (got_in (half ++ byte ∷ []))))
says_on q messages half count byte parts held unit e lt h = go h (tagged_is q)
  where
    bytes : List ℕ
    bytes = half ++ byte ∷ []

    begins : (t : ℕ) → bytes ≡ 0x20 ∷ [] → (whole_in (got_in bytes) ≡ None) × (left_of (got_in bytes) bytes ≡ 0x20 ∷ [])
    begins t eb = (
      ap (λ (x : List ℕ). whole_in (got_in x)) eb ∙ tag_opens.0,
      ap (λ (x : List ℕ). left_of (got_in x) x) eb ∙ tag_opens.1,
    )

    ends : (t : ℕ) → bytes ≡ 0x20 ∷ t ∷ []
        → (whole_in (got_in bytes) ≡ Some (MsgIn.SimpleTag t)) × (left_of (got_in bytes) bytes ≡ [])
    ends t eb = (
      ap (λ (x : List ℕ). whole_in (got_in x)) eb ∙ (tag_got t).0,
      ap (λ (x : List ℕ). left_of (got_in x) x) eb ∙ (tag_got t).1,
    )

    more : (m : ℕ) → count ≡ m → count + 1 ≡ m + 1
    more m z = ap (λ (x : ℕ). x + 1) z

    go : Says q messages count half parts held → Tagged q → Next q messages count parts held bytes
    go (none_said em ec eh ep el) w = on_unit q messages count parts held bytes unit em ec ep el
        (next_bytes (bytes_of_messages messages) half ((0x80 + q.unit) ∷ message_bytes (tag_named q.tag)) [] count 0
        byte (all_bytes q messages (tag_named q.tag) em refl) eh ec e)
    go (unit_said em ec eh ep el) (bare none number) = none_left (bytes_of_messages messages)
        ((0x80 + q.unit) ∷ []) count 1 (all_bytes q messages None em none) ec refl lt
    go (unit_said em ec eh ep el) (numbered t tag number) =
        let b = begins t (next_bytes (bytes_of_messages messages) half ((0x80 + q.unit) ∷ 0x20 ∷ t ∷ []) [] count 1 byte
        (all_bytes q messages (Some (MsgIn.SimpleTag t)) em tag) eh ec e) in
        tag_begun t (record { named = tag; number = number }) em (more 1 ec) b.1
        ((λ i. settled_with parts held (b.0 i)) ∙ ep) ((λ i. held_with held (b.0 i)) ∙ el)
    go (tag_begun t tag em ec eh ep el) w =
        let b = ends t (next_bytes (bytes_of_messages messages) half ((0x80 + q.unit) ∷ 0x20 ∷ t ∷ [])
        (0x20 ∷ []) count 2 byte (all_bytes q messages (Some (MsgIn.SimpleTag t)) em tag.named) eh ec e) in
        all_said t tag em (more 2 ec) b.1 (λ i. settled_with (ep i) (el i) (b.0 i)) (λ i. held_with held (b.0 i))
    go (all_said t tag em ec eh ep el) w = none_left (bytes_of_messages messages) ((0x80 + q.unit) ∷ 0x20 ∷ t ∷ [])
        count 3 (all_bytes q messages (Some (MsgIn.SimpleTag t)) em tag.named) ec refl lt
    go (tag_left t tag em ec eh ep el) w =
        let b = begins t (next_bytes (bytes_of_messages messages) half
        (0x20 ∷ t ∷ []) [] count 0 byte (left_bytes messages t em) eh ec e) in
        left_begun t tag em (more 0 ec) b.1 ((λ i. settled_with parts held (b.0 i)) ∙ ep)
        ((λ i. held_with held (b.0 i)) ∙ el)
    go (left_begun t tag em ec eh ep el) w =
        let b = ends t (next_bytes (bytes_of_messages messages) half (0x20 ∷ t ∷ [])
        (0x20 ∷ []) count 1 byte (left_bytes messages t em) eh ec e) in
        left_said t tag em (more 1 ec) b.1 (λ i. settled_with (ep i) (el i) (b.0 i)) (λ i. held_with held (b.0 i))
    go (left_said t tag em ec eh ep el) w =
        none_left (bytes_of_messages messages) (0x20 ∷ t ∷ []) count 2 (left_bytes messages t em) ec refl lt

-- ---- as all are said

pub names_said : (q : Process) (messages : Messages) (count : ℕ) (half : List ℕ) (parts held : List MsgIn)
    → count ≡ length (bytes_of_messages messages) → Says q messages count half parts held
    → AreNames (heard_names no_summary (parts ++ held)) q
names_said q messages count half parts held full h = go h (tagged_is q)
  where
    not_yet : {A : Type 0} (is : List ℕ) (at : ℕ) → bytes_of_messages messages ≡ is → count ≡ at → at < length is → A
    not_yet is at eb ec lt = let n = ap (λ (x : List ℕ). length x) eb in absurd (omega arith)

    told_are : (is : List MsgIn) → parts ++ held ≡ is → AreNames (heard_names no_summary is) q
        → AreNames (heard_names no_summary (parts ++ held)) q
    told_are is z w = subst (λ (x : List MsgIn). AreNames (heard_names no_summary x) q) (sym z) w

    two : (t : ℕ) → IsTag q t → parts ≡ identity q → held ≡ tag_message t
        → AreNames (heard_names no_summary (parts ++ held)) q
    two t tag ep el = told_are (MsgIn.Identify q.unit ∷ MsgIn.SimpleTag t ∷ []) (λ i. ep i ++ el i)
        (record { unit = refl; tag = sym tag.number; awaits = λ z. wrong' z })

    go : Says q messages count half parts held → Tagged q → AreNames (heard_names no_summary (parts ++ held)) q
    go (none_said em ec eh ep el) w = not_yet ((0x80 + q.unit) ∷ message_bytes (tag_named q.tag)) 0
        (all_bytes q messages (tag_named q.tag) em refl) ec (omega arith)
    go (unit_said em ec eh ep el) (bare none number) = told_are (MsgIn.Identify q.unit ∷ []) (λ i. ep i ++ el i)
        (record { unit = refl; tag = sym number; awaits = λ z. number })
    go (unit_said em ec eh ep el) (numbered t tag number) = not_yet ((0x80 + q.unit) ∷ 0x20 ∷ t ∷ []) 1
        (all_bytes q messages (Some (MsgIn.SimpleTag t)) em tag) ec (omega arith)
    go (tag_begun t tag em ec eh ep el) w = not_yet ((0x80 + q.unit) ∷ 0x20 ∷ t ∷ []) 2
        (all_bytes q messages (Some (MsgIn.SimpleTag t)) em tag.named) ec (omega arith)
    go (all_said t tag em ec eh ep el) w = two t tag ep el
    go (tag_left t tag em ec eh ep el) w = not_yet (0x20 ∷ t ∷ []) 0 (left_bytes messages t em) ec (omega arith)
    go (left_begun t tag em ec eh ep el) w = not_yet (0x20 ∷ t ∷ []) 1 (left_bytes messages t em) ec (omega arith)
    go (left_said t tag em ec eh ep el) w = two t tag ep el

-- ---- as they are refused

-- A message that is heard half is broken off, and that before it is settled.
abbrev pub settled_half : List MsgIn → List MsgIn → List ℕ → List MsgIn
settled_half parts held half = if is_nil half then parts else parts ++ held

pub repeats_from : (q : Process) (messages : Messages) (count : ℕ) (half : List ℕ) (parts held : List MsgIn)
    → (count == 0) ≡ false → Says q messages count half parts held
    → Repeats q (from_byte messages (count - 1)) (settled_half parts held half)
repeats_from q messages count half parts held some (none_said em ec eh ep el) =
    wrong' (sym some ∙ ap (λ (x : ℕ). x == 0) ec)
repeats_from q messages count half parts held some (unit_said em ec eh ep el) =
    all_again (λ i. from_byte (em i) (ec i - 1)) (λ i. settled_half (ep i) (el i) (eh i))
repeats_from q messages count half parts held some (tag_begun t tag em ec eh ep el) = tag_again t tag
    ((λ i. from_byte (em i) (ec i - 1)) ∙ ap (λ (x : Option MsgIn). record { first = x; second = None }) tag.named)
    (λ i. settled_half (ep i) (el i) (eh i))
repeats_from q messages count half parts held some (all_said t tag em ec eh ep el) = tag_again t tag
    ((λ i. from_byte (em i) (ec i - 1)) ∙ ap (λ (x : Option MsgIn). record { first = x; second = None }) tag.named)
    (λ i. settled_half (ep i) (el i) (eh i))
repeats_from q messages count half parts held some (tag_left t tag em ec eh ep el) =
    wrong' (sym some ∙ ap (λ (x : ℕ). x == 0) ec)
repeats_from q messages count half parts held some (left_begun t tag em ec eh ep el) = tag_again t tag
    (λ i. from_byte (em i) (ec i - 1)) ((λ i. settled_half (ep i) (el i) (eh i)) ∙ append-nil (identity q))
repeats_from q messages count half parts held some (left_said t tag em ec eh ep el) =
    tag_again t tag (λ i. from_byte (em i) (ec i - 1)) (λ i. settled_half (ep i) (el i) (eh i))

-- ---- the first of them is a name

pub says_name : (q : Process) (messages : Messages) (count : ℕ) (half : List ℕ) (parts held : List MsgIn)
    → Says q messages count half parts held → is_naming messages.first ≡ true
says_name q messages count half parts held (none_said em ec eh ep el) = ap (λ (m : Messages). is_naming m.first) em
says_name q messages count half parts held (unit_said em ec eh ep el) = ap (λ (m : Messages). is_naming m.first) em
says_name q messages count half parts held (tag_begun t tag em ec eh ep el) =
    ap (λ (m : Messages). is_naming m.first) em
says_name q messages count half parts held (all_said t tag em ec eh ep el) = ap (λ (m : Messages). is_naming m.first) em
says_name q messages count half parts held (tag_left t tag em ec eh ep el) = ap (λ (m : Messages). is_naming m.first) em
says_name q messages count half parts held (left_begun t tag em ec eh ep el) =
    ap (λ (m : Messages). is_naming m.first) em
says_name q messages count half parts held (left_said t tag em ec eh ep el) =
    ap (λ (m : Messages). is_naming m.first) em

pub repeats_name : (q : Process) (messages : Messages) (parts : List MsgIn) → Repeats q messages parts
    → is_naming messages.first ≡ true
repeats_name q messages parts (all_again em ep) = ap (λ (m : Messages). is_naming m.first) em
repeats_name q messages parts (tag_again t tag em ep) = ap (λ (m : Messages). is_naming m.first) em
