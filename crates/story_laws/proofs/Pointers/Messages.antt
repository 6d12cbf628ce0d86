-- What the messages that cross make of the data pointers (6.6.13, 6.6.19, 6.6.20).
use Rattle.story_laws.proofs
use proofs.Names.{ℕ, ◌≡◌, ◌⊎◌, inl, inr, ◌+◌, ◌<◌, Bool, true, false, ◌∙◌, length, Option, Some, None, refl, sym, ap}
use proofs.Names.{subst, arith, true≢false, List, [], ◌∷◌, ◌++◌, length-append, same_Some, slice_index_or, is_some}
use proofs.Names.{nil_of as none_before, Connection, form_in, form_out, got_in, got_out, in_bytes, FitsIn, MsgIn}
use proofs.Names.{MsgOut, fresh_bytes, Dialogue, ScenarioValue, Policy, whole_in, whole_out, CarriedBytes}
use proofs.Names.{with_restored_pointers, carried_after_message, Item, Link, plain, last_in, last_out, is_parity_error}
use proofs.Names.{one_message, two_messages, bytes_of_messages, Exchange, Speech, next_word, message_bytes, is_name}
use proofs.Names.{parity_error, detected_error, Cause, Messages, Next, Plan, heard_next, says_byte, OnMessage}
use proofs.Names.{OnMessages, AreGiven, IsNoName, Understanding, nothing_understood, understood, half_after}
use proofs.Names.{AreWordsHeard, AreWordsFor, rejects_data, rejects_status, IsSpeaking, none_some, zero_below}
use proofs.Names.{is_marked, IsAt, OnUndo, IsPlainIn, IsUndisturbed, IsOfStatus, IsCalm, PointersIn, calm, restores}
use proofs.Names.{saves, saved, closes, PointersRefused, still_calm, restores_again, saves_again, disconnects_again}
use proofs.Names.{closes_again, IsSettled, disconnects}

-- ---- one message

message_at : (c : CarriedBytes) (x : MsgIn) (start : ℕ) → IsAt c.moved start
    → IsAt (carried_after_message c x).moved start
message_at c MsgIn.SavePointer start h = record { active = h.active; saved = h.active }
message_at c MsgIn.RestorePointers start h = record { active = h.saved; saved = h.saved }
message_at c _ start h = h

message_marked : (c : CarriedBytes) (x : MsgIn) → is_marked (carried_after_message c x) ≡ is_marked c
message_marked c MsgIn.CommandComplete = refl
message_marked c _ = refl

-- ---- what is heard in MESSAGE IN

abbrev pub is_brief : MsgIn → Bool
is_brief MsgIn.CommandComplete = true
is_brief MsgIn.SavePointer = true
is_brief MsgIn.RestorePointers = true
is_brief MsgIn.Disconnect = true
is_brief _ = false

-- Of these messages so many bytes have crossed, and the next one makes this whole.
pub record IsHeard (m : Messages) (count : ℕ) (into : Option MsgIn) : Type 0 where
  pub within : count < length (bytes_of_messages m)
  pub first : count ≡ 0 → (x : MsgIn) → m.first ≡ Some x → is_brief x ≡ true → into ≡ Some x
  pub second : count ≡ 1 → m ≡ two_messages MsgIn.SavePointer MsgIn.Disconnect → into ≡ Some MsgIn.Disconnect
  pub plain : OnMessages IsPlainIn m → OnMessage IsPlainIn into
  pub nameless : OnMessages IsNoName m → OnMessage IsNoName into

-- There is one message of one byte.
lone : (m : Messages) (count : ℕ) (x : MsgIn) → m ≡ one_message x → is_brief x ≡ true
    → count < length (bytes_of_messages m) → count ≡ 0
lone m count x e b h =
    zero_below count (subst (λ (i : ℕ). count < i) (ap (λ (y : Messages). length (bytes_of_messages y)) e ∙ one x b) h)
  where
    one : (y : MsgIn) → is_brief y ≡ true → length (bytes_of_messages (one_message y)) ≡ 1
    one (MsgIn.Identify lun) z = absurd (true≢false (sym z))
    one (MsgIn.SimpleTag tag) z = absurd (true≢false (sym z))
    one (MsgIn.Sdtr offer) z = absurd (true≢false (sym z))
    one MsgIn.Reject z = absurd (true≢false (sym z))
    one _ z = refl

lone_heard : (m : Messages) (count : ℕ) (into : Option MsgIn) (x : MsgIn) → m ≡ one_message x → is_brief x ≡ true
    → IsHeard m count into → into ≡ Some x
lone_heard m count into x e b h = h.first (lone m count x e b h.within) x (ap (λ (y : Messages). y.first) e) b

first_heard : (m : Messages) (count : ℕ) (into : Option MsgIn) → m ≡ two_messages MsgIn.SavePointer MsgIn.Disconnect
    → count ≡ 0 → IsHeard m count into → into ≡ Some MsgIn.SavePointer
first_heard m count into e z h = h.first z MsgIn.SavePointer (ap (λ (y : Messages). y.first) e) refl

status_heard : (m : Messages) (count : ℕ) (into : Option MsgIn) → IsOfStatus m → IsHeard m count into
    → (into ≡ Some MsgIn.CommandComplete) ⊎ (into ≡ Some MsgIn.RestorePointers)
status_heard m count into (inl e) h = inl (lone_heard m count into MsgIn.CommandComplete e refl h)
status_heard m count into (inr e) h = inr (lone_heard m count into MsgIn.RestorePointers e refl h)

-- ---- a byte of MESSAGE IN

calm_more :
    (policy : Policy) (l v : Link) (c d : CarriedBytes) (m : Messages) (next : Next) (count start : ℕ) (x : MsgIn)
    → IsHeard m count (Some x) → v.last ≡ last_in x → v.before ≡ l.last → v.undo ≡ Some c → IsAt d.moved start
    → IsCalm policy l c m next start → IsCalm policy v d m next start
calm_more policy l v c d m next count start x heard el eb eu at h = record {
  here = at;
  undone = subst (λ (u : Option CarriedBytes). OnUndo (λ (y : CarriedBytes). IsAt y.moved start) u) (sym eu) h.here;
  plain = go h.plain;
}
  where
    go : ((next ≡ Next.GoOn) × IsUndisturbed policy l × OnMessages IsPlainIn m)
        ⊎ ((next ≡ Next.GoOn → ⊥) × OnMessages IsNoName m)
        → ((next ≡ Next.GoOn) × IsUndisturbed policy v × OnMessages IsPlainIn m)
        ⊎ ((next ≡ Next.GoOn → ⊥) × OnMessages IsNoName m)
    go (inl z) = inl (z.0, disturbed z.1, z.2)
      where
        disturbed : IsUndisturbed policy l → IsUndisturbed policy v
        disturbed (inl n) = inl n
        disturbed (inr w) = inr (el ∙ heard.plain z.2, eb ∙ w.0)
    go (inr z) = inr z

-- No message is whole with it.
pub in_half : (policy : Policy) (l : Link) (c : CarriedBytes) (m : Messages) (next : Next) (count start : ℕ)
    → IsHeard m count None → PointersIn policy l c m next count start → PointersIn policy l c m next (count + 1) start
in_half policy l c m next count start h (calm k) = calm k
in_half policy l c m next count start h (restores em en u e w) =
    none_some MsgIn.RestorePointers (lone_heard m count None MsgIn.RestorePointers em refl h)
in_half policy l c m next count start h (saves em en u z e) =
    none_some MsgIn.SavePointer (first_heard m count None em z h)
in_half policy l c m next count start h (saved em en u b z e w) = none_some MsgIn.Disconnect (h.second z em)
in_half policy l c m next count start h (disconnects em en e w) =
    none_some MsgIn.Disconnect (lone_heard m count None MsgIn.Disconnect em refl h)
in_half policy l c m next count start h (closes em en e w) = go (status_heard m count None em h)
  where
    go : (None ≡ Some MsgIn.CommandComplete) ⊎ (None ≡ Some MsgIn.RestorePointers)
        → PointersIn policy l c m next (count + 1) start
    go (inl z) = none_some MsgIn.CommandComplete z
    go (inr z) = none_some MsgIn.RestorePointers z

-- A message is whole with it, and the initiator knows the process before and after.
pub in_whole :
    (policy : Policy) (l a : Link) (c : CarriedBytes) (m : Messages) (next : Next) (count start : ℕ) (x : MsgIn)
    → IsHeard m count (Some x) → a.last ≡ last_in x → a.before ≡ l.last
    → a.undo ≡ Some c → PointersIn policy l c m next count start
    → PointersIn policy a (carried_after_message c x) m next (count + 1) start
in_whole policy l a c m next count start x h el eb eu (calm q) = calm
    (calm_more policy l a c (carried_after_message c x) m next count start x h el eb eu (message_at c x start q.here) q)
in_whole policy l a c m next count start x h el eb eu (restores em en u e w) =
    let is : x ≡ MsgIn.RestorePointers = same_Some x MsgIn.RestorePointers
    (lone_heard m count (Some x) MsgIn.RestorePointers em refl h) in
    restores em en (disturbed u (el ∙ ap last_in is))
    (ap (λ (y : MsgIn). (carried_after_message c y).moved.saved) is ∙ e) (inr (
      ap (λ (y : MsgIn). (carried_after_message c y).moved.active) is ∙ e,
      subst (λ (y : Option CarriedBytes). OnUndo (λ (z : CarriedBytes). z.moved.saved ≡ start) y) (sym eu) e,
    ))
  where
    disturbed : IsUndisturbed policy l → a.last ≡ plain → IsUndisturbed policy a
    disturbed (inl n) z = inl n
    disturbed (inr y) z = inr (z, eb ∙ y.0)
in_whole policy l a c m next count start x h el eb eu (saves em en u z e) =
    let is : x ≡ MsgIn.SavePointer = same_Some x MsgIn.SavePointer (first_heard m count (Some x) em z h) in
    saved em en (el ∙ ap last_in is) (eb ∙ u) (ap (λ (y : ℕ). y + 1) z) (record {
      active = ap (λ (y : MsgIn). (carried_after_message c y).moved.active) is ∙ e;
      saved = ap (λ (y : MsgIn). (carried_after_message c y).moved.saved) is ∙ e;
    }) (subst (λ (y : Option CarriedBytes). OnUndo (λ (v : CarriedBytes). v.moved.active ≡ start) y) (sym eu) e)
in_whole policy l a c m next count start x h el eb eu (saved em en u b z e w) =
    calm (record {
      here = message_at c x start e;
      undone = subst (λ (y : Option CarriedBytes). OnUndo (λ (v : CarriedBytes). IsAt v.moved start) y) (sym eu) e;
      plain = inr (λ g. not_on (sym en ∙ g), subst (λ (y : Messages). OnMessages IsNoName y) (sym em) (refl, refl));
    })
  where
    not_on : Next.FreeBus ≡ Next.GoOn → ⊥
    not_on g = absurd cc
in_whole policy l a c m next count start x h el eb eu (disconnects em en e w) =
    let is : x ≡ MsgIn.Disconnect = same_Some x MsgIn.Disconnect
    (lone_heard m count (Some x) MsgIn.Disconnect em refl h) in
    disconnects em en (ap (λ (y : MsgIn). (carried_after_message c y).moved.saved) is ∙ e)
    (inr (subst (λ (y : Option CarriedBytes). OnUndo (λ (v : CarriedBytes). v.moved.saved ≡ start) y) (sym eu) e))
in_whole policy l a c m next count start x h el eb eu (closes em en e w) = closes em en (message_marked c x ∙ e)
    (inr (subst (λ (y : Option CarriedBytes). OnUndo (λ (v : CarriedBytes). is_marked v ≡ true) y) (sym eu) e))

-- Such a message is a name that finds none.
pub record IsLost (policy : Policy) (l : Link) (c : CarriedBytes) (m : Messages) (next : Next) (start : ℕ) : Type
    0 where
  pub next_is : next ≡ Next.GoOn
  pub undisturbed : IsUndisturbed policy l
  pub plain : OnMessages IsPlainIn m
  pub saved : c.moved.saved ≡ start
  pub undone : OnUndo (λ (u : CarriedBytes). u.moved.saved ≡ start) l.undo

no_name : {A : Type 0} (x y : MsgIn) → x ≡ y → is_name y ≡ false → is_name x ≡ true → A
no_name x y e f g = absurd (true≢false (sym g ∙ ap is_name e ∙ f))

pub in_lost :
    (policy : Policy) (l a : Link) (c : CarriedBytes) (m : Messages) (next : Next) (count start : ℕ) (x : MsgIn)
    → IsHeard m count (Some x) → a.last ≡ last_in x → a.before ≡ l.last → a.undo ≡ Some c → is_name x ≡ true
    → PointersIn policy l c m next count start → IsLost policy a c m next start
in_lost policy l a c m next count start x h el eb eu named (calm q) = go q.plain
  where
    go : ((next ≡ Next.GoOn) × IsUndisturbed policy l × OnMessages IsPlainIn m)
        ⊎ ((next ≡ Next.GoOn → ⊥) × OnMessages IsNoName m)
        → IsLost policy a c m next start
    go (inl z) = record {
      next_is = z.0;
      undisturbed = disturbed z.1;
      plain = z.2;
      saved = q.here.saved;
      undone = subst (λ (y : Option CarriedBytes). OnUndo (λ (v : CarriedBytes). v.moved.saved ≡ start) y)
          (sym eu) q.here.saved;
    }
      where
        disturbed : IsUndisturbed policy l → IsUndisturbed policy a
        disturbed (inl n) = inl n
        disturbed (inr w) = inr (el ∙ h.plain z.2, eb ∙ w.0)
    go (inr z) = absurd (true≢false (sym named ∙ h.nameless z.1))
in_lost policy l a c m next count start x h el eb eu named (restores em en u e w) = no_name x MsgIn.RestorePointers
    (same_Some x MsgIn.RestorePointers (lone_heard m count (Some x) MsgIn.RestorePointers em refl h)) refl named
in_lost policy l a c m next count start x h el eb eu named (saves em en u z e) =
    no_name x MsgIn.SavePointer (same_Some x MsgIn.SavePointer (first_heard m count (Some x) em z h)) refl named
in_lost policy l a c m next count start x h el eb eu named (saved em en u b z e w) =
    no_name x MsgIn.Disconnect (same_Some x MsgIn.Disconnect (h.second z em)) refl named
in_lost policy l a c m next count start x h el eb eu named (disconnects em en e w) = no_name x MsgIn.Disconnect
    (same_Some x MsgIn.Disconnect (lone_heard m count (Some x) MsgIn.Disconnect em refl h)) refl named
in_lost policy l a c m next count start x h el eb eu named (closes em en e w) = go (status_heard m count (Some x) em h)
  where
    go : (Some x ≡ Some MsgIn.CommandComplete) ⊎ (Some x ≡ Some MsgIn.RestorePointers) → IsLost policy a c m next start
    go (inl z) = no_name x MsgIn.CommandComplete (same_Some x MsgIn.CommandComplete z) refl named
    go (inr z) = no_name x MsgIn.RestorePointers (same_Some x MsgIn.RestorePointers z) refl named

-- The initiator knows the process with it.
pub in_named :
    (policy : Policy) (l z : Link) (c : CarriedBytes) (m : Messages) (next : Next) (count start : ℕ) (x : MsgIn)
    → IsHeard m count (Some x) → z.last ≡ last_in x → z.before ≡ l.last → z.undo ≡ None → IsLost policy l c m next start
    → PointersIn policy z (carried_after_message (with_restored_pointers c) x) m next (count + 1) start
in_named policy l z c m next count start x h el eb eu q =
    calm (record {
      here = message_at (with_restored_pointers c) x start (record { active = q.saved; saved = q.saved });
      undone = subst (λ (y : Option CarriedBytes). OnUndo (λ (v : CarriedBytes). IsAt v.moved start) y) (sym eu) tt;
      plain = inl (q.next_is, disturbed q.undisturbed, q.plain);
    })
  where
    disturbed : IsUndisturbed policy l → IsUndisturbed policy z
    disturbed (inl n) = inl n
    disturbed (inr w) = inr (el ∙ h.plain q.plain, eb ∙ w.0)

-- ---- a message to the target

-- Refused messages are brought back.
abbrev pub or_undone : Bool → Option CarriedBytes → CarriedBytes → CarriedBytes
or_undone false o c = c
or_undone true None c = c
or_undone true (Some u) c = u

undone_on : (q : CarriedBytes → Type 0) (r : Bool) (o : Option CarriedBytes) (c : CarriedBytes) → OnUndo q o → q c
    → q (or_undone r o c)
undone_on q false o c u h = h
undone_on q true None c u h = h
undone_on q true (Some v) c u h = u

refusal_plain : (policy : Policy) (l z : Link) (x : MsgOut) → x ≡ MsgOut.ParityError → z.last ≡ last_out x l
    → z.before ≡ l.before → IsUndisturbed policy l → IsUndisturbed policy z
refusal_plain policy l z x is el eb (inl n) = inl n
refusal_plain policy l z x is el eb (inr w) = inr (el ∙ ap (λ (y : MsgOut). last_out y l) is ∙ w.1, eb ∙ w.1)

-- Where the target answers no request, MESSAGE PARITY ERROR alone is said.
pub refused_on : (policy : Policy) (l a : Link) (c : CarriedBytes) (m : Messages) (next : Next) (start : ℕ) (x : MsgOut)
    → ((next ≡ Next.Command) ⊎ (x ≡ MsgOut.ParityError)) → a.last ≡ last_out x l
    → a.before ≡ l.before → a.undo ≡ l.undo → PointersRefused policy l c m next start
    → PointersRefused policy a (or_undone (is_parity_error x) l.undo c) m next start
refused_on policy l a c m next start x is el eb eu (still_calm h) =
    still_calm (record {
      here = undone_on (λ (y : CarriedBytes). IsAt y.moved start) (is_parity_error x) l.undo c h.undone h.here;
      undone =
          subst (λ (y : Option CarriedBytes). OnUndo (λ (v : CarriedBytes). IsAt v.moved start) y) (sym eu) h.undone;
      plain = go h.plain is;
    })
  where
    go : ((next ≡ Next.GoOn) × IsUndisturbed policy l × OnMessages IsPlainIn m)
        ⊎ ((next ≡ Next.GoOn → ⊥) × OnMessages IsNoName m) → ((next ≡ Next.Command) ⊎ (x ≡ MsgOut.ParityError))
        → ((next ≡ Next.GoOn) × IsUndisturbed policy a × OnMessages IsPlainIn m)
        ⊎ ((next ≡ Next.GoOn → ⊥) × OnMessages IsNoName m)
    go (inl z) (inr w) = inl (z.0, refusal_plain policy l a x w el eb z.1, z.2)
    go (inl z) (inl w) = absurd (let bad : Next.GoOn ≡ Next.Command = sym z.0 ∙ w in cc)
    go (inr z) w = inr z
refused_on policy l a c m next start x is el eb eu (restores_again em en u e w) = go is
  where
    go : ((next ≡ Next.Command) ⊎ (x ≡ MsgOut.ParityError))
        → PointersRefused policy a (or_undone (is_parity_error x) l.undo c) m next start
    go (inl z) = absurd (let bad : Next.GoOn ≡ Next.Command = sym en ∙ z in cc)
    go (inr z) = restores_again em en (refusal_plain policy l a x z el eb u)
        (undone_on (λ (y : CarriedBytes). y.moved.saved ≡ start) (is_parity_error x) l.undo c w e)
        (subst (λ (y : Option CarriedBytes). OnUndo (λ (v : CarriedBytes). v.moved.saved ≡ start) y) (sym eu) w)
refused_on policy l a c m next start x is el eb eu (saves_again em en u b e w) = go is
  where
    go : ((next ≡ Next.Command) ⊎ (x ≡ MsgOut.ParityError))
        → PointersRefused policy a (or_undone (is_parity_error x) l.undo c) m next start
    go (inl z) = absurd (let bad : Next.FreeBus ≡ Next.Command = sym en ∙ z in cc)
    go (inr z) = saves_again em en (el ∙ ap (λ (y : MsgOut). last_out y l) z ∙ b) (eb ∙ b)
        (undone_on (λ (y : CarriedBytes). y.moved.active ≡ start) (is_parity_error x) l.undo c w e)
        (subst (λ (y : Option CarriedBytes). OnUndo (λ (v : CarriedBytes). v.moved.active ≡ start) y) (sym eu) w)
refused_on policy l a c m next start x is el eb eu (disconnects_again em en e w) = disconnects_again em en
    (undone_on (λ (y : CarriedBytes). y.moved.saved ≡ start) (is_parity_error x) l.undo c w e)
    (subst (λ (y : Option CarriedBytes). OnUndo (λ (v : CarriedBytes). v.moved.saved ≡ start) y) (sym eu) w)
refused_on policy l a c m next start x is el eb eu (closes_again em en e w) = closes_again em en
    (undone_on (λ (y : CarriedBytes). is_marked y ≡ true) (is_parity_error x) l.undo c w e)
    (subst (λ (y : Option CarriedBytes). OnUndo (λ (v : CarriedBytes). is_marked v ≡ true) y) (sym eu) w)

pub settled_on : (l x : Link) (c : CarriedBytes) (start : ℕ) (r : Bool) → x.undo ≡ l.undo → IsSettled l c start
    → IsSettled x (or_undone r l.undo c) start
settled_on l x c start r eu h = record {
  here = undone_on (λ (y : CarriedBytes). IsAt y.moved start) r l.undo c h.undone h.here;
  undone = subst (λ (y : Option CarriedBytes). OnUndo (λ (v : CarriedBytes). IsAt v.moved start) y) (sym eu) h.undone;
}

-- ---- Which message the byte that crosses makes whole: of a message of one byte that very one.

-- ---- MESSAGE IN

brief_whole : (x : MsgIn) (rest : List ℕ) → is_brief x ≡ true
    → whole_in (got_in ([] ++ slice_index_or (in_bytes x ++ rest) 0 0 ∷ [])) ≡ Some x
unfolding form_in
brief_whole MsgIn.CommandComplete rest e = refl
brief_whole MsgIn.SavePointer rest e = refl
brief_whole MsgIn.RestorePointers rest e = refl
brief_whole MsgIn.Disconnect rest e = refl
brief_whole (MsgIn.Identify lun) rest e = absurd (true≢false (sym e))
brief_whole (MsgIn.SimpleTag tag) rest e = absurd (true≢false (sym e))
brief_whole (MsgIn.Sdtr offer) rest e = absurd (true≢false (sym e))
brief_whole MsgIn.Reject rest e = absurd (true≢false (sym e))

one_before : (before : List ℕ) → length before ≡ 1 → (b : ℕ) × (before ≡ b ∷ [])
one_before [] e = absurd omega (arith, e)
one_before (b ∷ []) e = (b, refl)
one_before (b ∷ (c ∷ before)) e = absurd omega (arith, e)

-- After SAVE DATA POINTER the second of the two.
second_whole : (m : Messages) (half : List ℕ) (count byte : ℕ)
    → AreGiven (bytes_of_messages m) half count → byte ≡ slice_index_or (bytes_of_messages m) count 0
    → count ≡ 1 → m ≡ two_messages MsgIn.SavePointer MsgIn.Disconnect
    → whole_in (got_in (half ++ byte ∷ [])) ≡ Some MsgIn.Disconnect
unfolding form_in
second_whole m half count byte g eb ec em =
    let front = one_before g.before (sym g.count_is ∙ ec) in
    let bytes : 2 ∷ (4 ∷ []) ≡ (front.0 ∷ []) ++ g.rest = ap bytes_of_messages (sym em)
    ∙ g.bytes_are ∙ ap (λ (x : List ℕ). x ++ g.rest) front.1 in
    let save : front.0 ≡ 2 = sym (ap (λ (x : List ℕ). slice_index_or x 0 0) bytes) in
    let none : half ≡ [] = g.half_is ∙ ap (λ (x : List ℕ). half_after [] x) front.1
    ∙ ap (λ (x : ℕ). half_after [] (x ∷ [])) save in
    (λ i. whole_in (got_in (none i ++ eb i ∷ [])))
    ∙ (λ i. whole_in (got_in ([] ++ slice_index_or (bytes_of_messages (em i)) (ec i) 0 ∷ [])))

pub heard_in : (m : Messages) (half : List ℕ) (count byte : ℕ) → OnMessages FitsIn m
    → AreGiven (bytes_of_messages m) half count → byte ≡ slice_index_or (bytes_of_messages m) count 0
    → count < length (bytes_of_messages m) → IsHeard m count (whole_in (got_in (half ++ byte ∷ [])))
heard_in m half count byte f g eb lt = record {
  within = lt;
  first = λ z x ex b.
      let none : g.before ≡ [] = none_before g.before (sym g.count_is ∙ z) in
      let quiet : half ≡ [] = g.half_is ∙ ap (λ (y : List ℕ). half_after [] y) none in
      (λ i. whole_in (got_in (quiet i ++ eb i ∷ [])))
      ∙ (λ i. whole_in (got_in ([] ++ slice_index_or (message_bytes (ex i) ++ message_bytes m.second) (z i) 0 ∷ [])))
      ∙ brief_whole x (message_bytes m.second) b;
  second = λ z em. second_whole m half count byte g eb z em;
  plain = λ p. heard_next IsPlainIn m half count byte f p g eb lt;
  nameless = λ p. heard_next IsNoName m half count byte f p g eb lt;
}

-- ---- MESSAGE OUT

nil_of : (before : List ℕ) (b : ℕ) (rest : List ℕ) (w : ℕ) → w ∷ [] ≡ before ++ b ∷ rest → before ≡ []
nil_of [] b rest w e = refl
nil_of (x ∷ before) b rest w e =
    let l = ap (λ (y : List ℕ). length y) e in
    let m = length-append (x ∷ before) (b ∷ rest) in
    absurd omega (arith, l, m)

-- Words of one byte: that is said, and nothing is half heard before it.
said_alone : (v : Speech) (l : Plan) (d : Dialogue) (byte w : ℕ) → v.words ≡ w ∷ [] → AreWordsHeard v l d
    → byte ≡ next_word v → whole_out (got_out (fresh_bytes d ++ byte ∷ [])) ≡ whole_out (got_out ([] ++ w ∷ []))
said_alone v l d byte w e h eb =
    let none = nil_of h.before h.byte h.rest w (sym e ∙ h.words_are) in
    let words : v.words ≡ h.byte ∷ h.rest = h.words_are ∙ ap (λ (x : List ℕ). x ++ h.byte ∷ h.rest) none in
    let is : h.byte ≡ w = ap (λ (x : List ℕ). slice_index_or x 0 0) (sym words ∙ e) in
    let half : fresh_bytes d ≡ [] = ap (λ (u : Understanding). u.half)
    (h.anew ∙ ap (λ (x : List ℕ). understood nothing_understood x) none) in
    λ i. whole_out (got_out (half i ++ (eb ∙ says_byte v l d h ∙ is) i ∷ []))

pub refusal_said : (v : Speech) (l : Plan) (d : Dialogue) (byte : ℕ) → v.words ≡ parity_error → AreWordsHeard v l d
    → byte ≡ next_word v → whole_out (got_out (fresh_bytes d ++ byte ∷ [])) ≡ Some MsgOut.ParityError
unfolding form_out
refusal_said v l d byte e h eb = said_alone v l d byte 0x09 e h eb

pub rejection_said : (v : Speech) (l : Plan) (d : Dialogue) (byte : ℕ) → v.words ≡ detected_error → AreWordsHeard v l d
    → byte ≡ next_word v → whole_out (got_out (fresh_bytes d ++ byte ∷ [])) ≡ Some MsgOut.DetectedError
unfolding form_out
rejection_said v l d byte e h eb = said_alone v l d byte 0x05 e h eb

-- Once it is said no request was answered.
pub refusal_offers : (v : Speech) (a : Plan) (d : Dialogue) → v.words ≡ parity_error → AreWordsHeard v a d
    → d.is_last ≡ true → is_some a.said.offer ≡ false
unfolding form_out
refusal_offers v a d e h l =
    ap (λ (u : Understanding). is_some u.said.offer) (h.last l ∙ ap (λ (x : List ℕ). understood nothing_understood x) e)

data_words : (s : ScenarioValue) (n : Connection) (served : Option Item) (x : Exchange)
    → AreWordsFor s n served x Cause.InData → x.speech.words ≡ detected_error
data_words s n served x (rejects_data e) = e

pub data_rejects : (s : ScenarioValue) (n : Connection) (served : Option Item) (x : Exchange) (d : Dialogue)
    → IsSpeaking s n served x d → x.plan.cause ≡ Cause.InData → x.speech.words ≡ detected_error
data_rejects s n served x d h e =
    data_words s n served x (subst (λ (c : Cause). AreWordsFor s n served x c) e h.words_for)

status_words : (s : ScenarioValue) (n : Connection) (served : Option Item) (x : Exchange)
    → AreWordsFor s n served x Cause.InStatus → x.speech.words ≡ detected_error
status_words s n served x (rejects_status e) = e

pub status_rejects : (s : ScenarioValue) (n : Connection) (served : Option Item) (x : Exchange) (d : Dialogue)
    → IsSpeaking s n served x d → x.plan.cause ≡ Cause.InStatus → x.speech.words ≡ detected_error
status_rejects s n served x d h e =
    status_words s n served x (subst (λ (c : Cause). AreWordsFor s n served x c) e h.words_for)
