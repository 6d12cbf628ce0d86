-- The names of a process, byte by byte: with the last one the initiator finds a process (6.6.7, 6.6.17).
use Rattle.story_laws.proofs
use proofs.Names.{ℕ, zero, suc, ◌≡◌, ◌<◌, ◌≤◌, ◌+◌, true, false, ◌==◌, ◌∙◌, List, [], ◌∷◌, ◌++◌, length, Option, Some}
use proofs.Names.{None, refl, sym, ap, subst, arith, take, ◌-◌, is_some, slice_index_or, wrong, Connection, form_in}
use proofs.Names.{FitsIn, got_in, MsgIn, left_of, ScenarioValue, Tag, tag_number, Process, whole_in, CarriedBytes, Sent}
use proofs.Names.{Link, named_item, bytes_of_messages, message_bytes, from_byte, one_message, naming_messages}
use proofs.Names.{tag_named, is_name, is_naming, Messages, AreGiven, OnMessages, half_after, none_some, IsFoundBy}
use proofs.{Names.{Names, all, tag_alone}, Named.Story.{after_name}, Offers.Bytes.{take_front}}

-- ---- tagged or not

pub data Tagged (c : Process) : Type 0 where
  bare : tag_named c.tag ≡ None → tag_number c.tag ≡ None → Tagged c
  numbered : (m : ℕ) → tag_named c.tag ≡ Some (MsgIn.SimpleTag m) → tag_number c.tag ≡ Some m → Tagged c

pub tagged_is : (c : Process) → Tagged c
tagged_is c = go c.tag refl
  where
    go : (t : Tag) → c.tag ≡ t → Tagged c
    go Tag.Untagged e = bare (ap tag_named e) (ap tag_number e)
    go (Tag.Simple n) e = numbered n (ap tag_named e) (ap tag_number e)
    go (Tag.Ordered n) e = numbered n (ap tag_named e) (ap tag_number e)
    go (Tag.Head n) e = numbered n (ap tag_named e) (ap tag_number e)

pub all_bytes : (c : Process) (messages : Messages) (tag : Option MsgIn) → messages ≡ naming_messages c
    → tag_named c.tag ≡ tag → bytes_of_messages messages ≡ (0x80 + c.unit) ∷ message_bytes tag
all_bytes c messages tag e t = ap bytes_of_messages e ∙ ap (λ (m : Option MsgIn). (0x80 + c.unit) ∷ message_bytes m) t

-- ---- bytes

pub identify_got : (unit : ℕ) → unit < 8 → (whole_in (got_in ((0x80 + unit) ∷ [])) ≡ Some (MsgIn.Identify unit))
    × (left_of (got_in ((0x80 + unit) ∷ [])) ((0x80 + unit) ∷ []) ≡ [])
unfolding form_in
identify_got zero lt = (refl, refl)
identify_got (suc zero) lt = (refl, refl)
identify_got (suc (suc zero)) lt = (refl, refl)
identify_got (suc (suc (suc zero))) lt = (refl, refl)
identify_got (suc (suc (suc (suc zero)))) lt = (refl, refl)
identify_got (suc (suc (suc (suc (suc zero))))) lt = (refl, refl)
identify_got (suc (suc (suc (suc (suc (suc zero)))))) lt = (refl, refl)
identify_got (suc (suc (suc (suc (suc (suc (suc zero))))))) lt = (refl, refl)
identify_got (suc (suc (suc (suc (suc (suc (suc (suc n)))))))) lt = absurd omega (arith, lt)

tag_begins : (half : List ℕ) → half ≡ [] → whole_in (got_in (half ++ 0x20 ∷ [])) ≡ None
unfolding form_in
tag_begins half e = ap (λ (h : List ℕ). whole_in (got_in (h ++ 0x20 ∷ []))) e

tag_whole : (half : List ℕ) (m : ℕ) → half ≡ []
    → whole_in (got_in (left_of (got_in (half ++ 0x20 ∷ [])) (half ++ 0x20 ∷ []) ++ m ∷ [])) ≡ Some (MsgIn.SimpleTag m)
unfolding form_in
tag_whole half m e =
    ap (λ (h : List ℕ). whole_in (got_in (left_of (got_in (h ++ 0x20 ∷ [])) (h ++ 0x20 ∷ []) ++ m ∷ []))) e

given_half : (bytes half : List ℕ) (count : ℕ) → AreGiven bytes half count → half ≡ half_after [] (take count bytes)
given_half bytes half count g =
    g.half_is ∙ ap (half_after []) (sym ((λ i. take (g.count_is i) (g.bytes_are i)) ∙ take_front g.before g.rest))

-- What is heard with the next byte, of these bytes.
abbrev next_in : List ℕ → ℕ → Option MsgIn
next_in bytes count = whole_in (got_in (half_after [] (take count bytes) ++ slice_index_or bytes count 0 ∷ []))

-- ---- with the next byte

-- The names go on, and with the last byte the initiator knows a process.
pub record NamesOn (c : Process) (l : Link) (messages : Messages) (count : ℕ) : Type 0 where
  pub names : Names c l messages count
  pub heard : count ≡ length (bytes_of_messages messages) → is_some l.item ≡ true

abbrev Next : ScenarioValue → Sent → Link → Option CarriedBytes → Process → Messages → ℕ → Option MsgIn → Type 0
Next s sent l undo c messages count m = NamesOn c (after_name s sent l undo m) messages (count + 1)

not_yet : {A : Type 0} (bytes other : List ℕ) (count : ℕ) → bytes ≡ other → count < length other → count ≡ length bytes
    → A
not_yet bytes other count e lt z = let l = ap (λ (x : List ℕ). length x) e in absurd (omega arith)

bare_on : (s : ScenarioValue) (sent : Sent) (l : Link) (undo : Option CarriedBytes) (n : Connection) (c : Process)
    (messages : Messages) (count : ℕ) → c.unit < 8 → messages ≡ naming_messages c → tag_named c.tag ≡ None
    → tag_number c.tag ≡ None → l.initiator ≡ n.initiator → l.target ≡ n.target → IsFoundBy s n sent c → count < 1
    → Next s sent l undo c messages count (next_in ((0x80 + c.unit) ∷ []) count)
bare_on s sent l undo n c messages zero lt e tag number ei et found z =
    subst (λ (m : Option MsgIn). Next s sent l undo c messages 0 m) (sym (identify_got c.unit lt).0)
    (record {
      names = all e (λ w. refl);
      heard =
          λ w. ap (λ (x : Option ℕ). is_some (named_item sent s.commands (record l { unit = c.unit }) x)) (sym number)
          ∙ found (record l { unit = c.unit }) ei et refl;
    })
bare_on s sent l undo n c messages (suc count) lt e tag number ei et found z = absurd omega (arith, z)

numbered_on : (s : ScenarioValue) (sent : Sent) (l : Link) (undo : Option CarriedBytes)
    (n : Connection) (c : Process) (messages : Messages) (count t : ℕ)
    → c.unit < 8 → messages ≡ naming_messages c → tag_named c.tag ≡ Some (MsgIn.SimpleTag t) → tag_number c.tag ≡ Some t
    → l.initiator ≡ n.initiator → l.target ≡ n.target → IsFoundBy s n sent c → ((count == 0) ≡ false → l.unit ≡ c.unit)
    → count < 3 → Next s sent l undo c messages count (next_in ((0x80 + c.unit) ∷ 0x20 ∷ t ∷ []) count)
numbered_on s sent l undo n c messages zero t lt e tag number ei et found u z =
    subst (λ (m : Option MsgIn). Next s sent l undo c messages 0 m) (sym (identify_got c.unit lt).0) (record {
      names = all e (λ w. refl);
      heard = λ w. not_yet (bytes_of_messages messages) _ 1 (all_bytes c messages _ e tag) (omega arith) w;
    })
numbered_on s sent l undo n c messages (suc zero) t lt e tag number ei et found u z =
    subst (λ (m : Option MsgIn). Next s sent l undo c messages 1 m) (sym
    (tag_begins (left_of (got_in ((0x80 + c.unit) ∷ [])) ((0x80 + c.unit) ∷ [])) (identify_got c.unit lt).1)) (record {
      names = all e (λ w. u refl);
      heard = λ w. not_yet (bytes_of_messages messages) _ 2 (all_bytes c messages _ e tag) (omega arith) w;
    })
numbered_on s sent l undo n c messages (suc (suc zero)) t lt e tag number ei et found u z = subst
    (λ (m : Option MsgIn). Next s sent l undo c messages 2 m)
    (sym (tag_whole (left_of (got_in ((0x80 + c.unit) ∷ [])) ((0x80 + c.unit) ∷ [])) t (identify_got c.unit lt).1))
    (record {
      names = all e (λ w. u refl);
      heard =
          λ w. ap (λ (x : Option ℕ). is_some (named_item sent s.commands l x)) (sym number) ∙ found l ei et (u refl);
    })
numbered_on s sent l undo n c messages (suc (suc (suc count))) t lt e tag number ei et found u z =
    absurd omega (arith, z)

alone_on : (s : ScenarioValue) (sent : Sent) (l : Link) (undo : Option CarriedBytes)
    (n : Connection) (c : Process) (messages : Messages) (count t : ℕ) (m : MsgIn)
    → tag_named c.tag ≡ Some m → messages ≡ one_message m → m ≡ MsgIn.SimpleTag t → tag_number c.tag ≡ Some t
    → l.initiator ≡ n.initiator → l.target ≡ n.target → IsFoundBy s n sent c → l.unit ≡ c.unit → count < 2
    → Next s sent l undo c messages count (next_in (0x20 ∷ t ∷ []) count)
alone_on s sent l undo n c messages zero t m tag e is number ei et found u z =
    subst (λ (x : Option MsgIn). Next s sent l undo c messages 0 x) (sym (tag_begins [] refl)) (record {
      names = tag_alone m tag e u;
      heard = λ w. not_yet (bytes_of_messages messages) (0x20 ∷ t ∷ []) 1
          (ap bytes_of_messages e ∙ ap (λ (x : MsgIn). bytes_of_messages (one_message x)) is) (omega arith) w;
    })
alone_on s sent l undo n c messages (suc zero) t m tag e is number ei et found u z =
    subst (λ (x : Option MsgIn). Next s sent l undo c messages 1 x) (sym (tag_whole [] t refl)) (record {
      names = tag_alone m tag e u;
      heard = λ w. ap (λ (x : Option ℕ). is_some (named_item sent s.commands l x)) (sym number) ∙ found l ei et u;
    })
alone_on s sent l undo n c messages (suc (suc count)) t m tag e is number ei et found u z = absurd omega (arith, z)

abbrev or_message : MsgIn → Option MsgIn → MsgIn
or_message x None = x
or_message x (Some y) = y

fits_name : (c : Process) (messages : Messages) → messages ≡ naming_messages c → OnMessages FitsIn messages → c.unit < 8
fits_name c messages e h = (subst (λ (m : Messages). OnMessages FitsIn m) e h).0

pub names_on : (s : ScenarioValue) (sent : Sent) (l : Link) (undo : Option CarriedBytes)
    (n : Connection) (c : Process) (messages : Messages) (half : List ℕ) (count byte : ℕ)
    → OnMessages FitsIn messages → AreGiven (bytes_of_messages messages) half count
    → byte ≡ slice_index_or (bytes_of_messages messages) count 0 → count < length (bytes_of_messages messages)
    → l.initiator ≡ n.initiator → l.target ≡ n.target → IsFoundBy s n sent c → Names c l messages count
    → NamesOn c (after_name s sent l undo (whole_in (got_in (half ++ byte ∷ [])))) messages (count + 1)
names_on s sent l undo n c messages half count byte fit g e lt ei et found names = go names (tagged_is c)
  where
    heard : (bytes : List ℕ) → bytes_of_messages messages ≡ bytes
        → whole_in (got_in (half ++ byte ∷ [])) ≡ next_in bytes count
    heard bytes z = (λ i. whole_in (got_in (given_half (bytes_of_messages messages) half count g i ++ e i ∷ [])))
        ∙ ap (λ (x : List ℕ). next_in x count) z

    within : (bytes : List ℕ) → bytes_of_messages messages ≡ bytes → count < length bytes
    within bytes z = subst (λ (x : List ℕ). count < length x) z lt

    by : (bytes : List ℕ) → bytes_of_messages messages ≡ bytes
        → Next s sent l undo c messages count (next_in bytes count)
        → Next s sent l undo c messages count (whole_in (got_in (half ++ byte ∷ [])))
    by bytes z w = subst (λ (m : Option MsgIn). Next s sent l undo c messages count m) (sym (heard bytes z)) w

    go : Names c l messages count → Tagged c
        → Next s sent l undo c messages count (whole_in (got_in (half ++ byte ∷ [])))
    go (all em u) (bare tag number) =
        let z = all_bytes c messages None em tag in
        by ((0x80 + c.unit) ∷ []) z
        (bare_on s sent l undo n c messages count (fits_name c messages em fit) em tag number ei et found (within _ z))
    go (all em u) (numbered t tag number) =
        let z = all_bytes c messages (Some (MsgIn.SimpleTag t)) em tag in
        by ((0x80 + c.unit) ∷ 0x20 ∷ t ∷ []) z (numbered_on s sent l undo n c messages count t
        (fits_name c messages em fit) em tag number ei et found u (within _ z))
    go (tag_alone m em es u) (bare tag number) = absurd (none_some m (sym tag ∙ em))
    go (tag_alone m em es u) (numbered t tag number) =
        let is : m ≡ MsgIn.SimpleTag t = ap (or_message m) (sym em ∙ tag) in
        let z : bytes_of_messages messages ≡ 0x20 ∷ t ∷ [] = ap bytes_of_messages es
        ∙ ap (λ (x : MsgIn). bytes_of_messages (one_message x)) is in
        by (0x20 ∷ t ∷ []) z (alone_on s sent l undo n c messages count t m em es is number ei et found u (within _ z))

-- ---- as they are refused, and said again

pub names_some : (c : Process) (l : Link) (messages : Messages) (count : ℕ) → Names c l messages count
    → 0 < length (bytes_of_messages messages)
names_some c l messages count (all e u) =
    subst (λ (x : List ℕ). 0 < length x) (sym (all_bytes c messages (tag_named c.tag) e refl)) (omega arith)
names_some c l messages count (tag_alone m em es u) = go (tagged_is c)
  where
    go : Tagged c → 0 < length (bytes_of_messages messages)
    go (bare tag number) = absurd (none_some m (sym tag ∙ em))
    go (numbered t tag number) = subst (λ (x : List ℕ). 0 < length x) (sym (ap bytes_of_messages es
        ∙ ap (λ (x : MsgIn). bytes_of_messages (one_message x)) (ap (or_message m) (sym em ∙ tag)))) (omega arith)

pub names_first : (c : Process) (l : Link) (messages : Messages) (count : ℕ) → Names c l messages count
    → is_naming messages.first ≡ true
names_first c l messages count (all e u) = ap (λ (m : Messages). is_naming m.first) e
names_first c l messages count (tag_alone m em es u) = go (tagged_is c)
  where
    go : Tagged c → is_naming messages.first ≡ true
    go (bare tag number) = absurd (none_some m (sym tag ∙ em))
    go (numbered t tag number) =
        ap (λ (x : Messages). is_naming x.first) es ∙ ap is_name (ap (or_message m) (sym em ∙ tag))

bare_left : (c : Process) (l : Link) (messages : Messages) (count : ℕ) → messages ≡ naming_messages c
    → (count == 0) ≡ false → count ≤ 1 → Names c l (from_byte messages (count - 1)) 0
bare_left c l messages zero e some le = wrong some
bare_left c l messages (suc zero) e some le = all (ap (λ (m : Messages). from_byte m 0) e) (λ w. wrong w)
bare_left c l messages (suc (suc n)) e some le = absurd omega (arith, le)

numbered_left : (c : Process) (l : Link) (messages : Messages) (count t : ℕ) → messages ≡ naming_messages c
    → tag_named c.tag ≡ Some (MsgIn.SimpleTag t) → ((count == 0) ≡ false → l.unit ≡ c.unit) → (count == 0) ≡ false
    → count ≤ 3 → Names c l (from_byte messages (count - 1)) 0
numbered_left c l messages zero t e tag u some le = wrong some
numbered_left c l messages (suc zero) t e tag u some le = all (ap (λ (m : Messages). from_byte m 0) e) (λ w. wrong w)
numbered_left c l messages (suc (suc zero)) t e tag u some le = tag_alone (MsgIn.SimpleTag t) tag
    (ap (λ (m : Messages). from_byte m 1) e ∙ ap (λ (o : Option MsgIn). record { first = o; second = None }) tag)
    (u some)
numbered_left c l messages (suc (suc (suc zero))) t e tag u some le = tag_alone (MsgIn.SimpleTag t) tag
    (ap (λ (m : Messages). from_byte m 2) e ∙ ap (λ (o : Option MsgIn). record { first = o; second = None }) tag)
    (u some)
numbered_left c l messages (suc (suc (suc (suc n)))) t e tag u some le = absurd omega (arith, le)

alone_left : (c : Process) (l : Link) (messages : Messages) (count t : ℕ) (m : MsgIn) → tag_named c.tag ≡ Some m
    → messages ≡ one_message m → m ≡ MsgIn.SimpleTag t → l.unit ≡ c.unit → (count == 0) ≡ false → count ≤ 2
    → Names c l (from_byte messages (count - 1)) 0
alone_left c l messages zero t m tag e is u some le = wrong some
alone_left c l messages (suc zero) t m tag e is u some le = tag_alone
    (MsgIn.SimpleTag t) (tag ∙ ap (λ (x : MsgIn). Some x) is)
    (ap (λ (x : Messages). from_byte x 0) e ∙ ap (λ (x : MsgIn). from_byte (one_message x) 0) is) u
alone_left c l messages (suc (suc zero)) t m tag e is u some le = tag_alone
    (MsgIn.SimpleTag t) (tag ∙ ap (λ (x : MsgIn). Some x) is)
    (ap (λ (x : Messages). from_byte x 1) e ∙ ap (λ (x : MsgIn). from_byte (one_message x) 1) is) u
alone_left c l messages (suc (suc (suc n))) t m tag e is u some le = absurd omega (arith, le)

pub names_left : (c : Process) (l : Link) (messages : Messages) (count : ℕ) → (count == 0) ≡ false
    → count ≤ length (bytes_of_messages messages) → Names c l messages count
    → Names c l (from_byte messages (count - 1)) 0
names_left c l messages count some le names = go names (tagged_is c)
  where
    within : (bytes : List ℕ) → bytes_of_messages messages ≡ bytes → count ≤ length bytes
    within bytes z = subst (λ (x : List ℕ). count ≤ length x) z le

    go : Names c l messages count → Tagged c → Names c l (from_byte messages (count - 1)) 0
    go (all e u) (bare tag number) = bare_left c l messages count e some (within _ (all_bytes c messages None e tag))
    go (all e u) (numbered t tag number) = numbered_left c l messages count t e tag u some
        (within _ (all_bytes c messages (Some (MsgIn.SimpleTag t)) e tag))
    go (tag_alone m em es u) (bare tag number) = absurd (none_some m (sym tag ∙ em))
    go (tag_alone m em es u) (numbered t tag number) =
        let is : m ≡ MsgIn.SimpleTag t = ap (or_message m) (sym em ∙ tag) in
        alone_left c l messages count t m em es is u some
        (within (0x20 ∷ t ∷ []) (ap bytes_of_messages es ∙ ap (λ (x : MsgIn). bytes_of_messages (one_message x)) is))

-- The link is another, of the same unit.
pub names_of_link : (c : Process) (l l' : Link) (messages : Messages) (count : ℕ) → l'.unit ≡ l.unit
    → Names c l messages count → Names c l' messages count
names_of_link c l l' messages count e (all em u) = all em (λ w. e ∙ u w)
names_of_link c l l' messages count e (tag_alone m em es u) = tag_alone m em es (e ∙ u)
