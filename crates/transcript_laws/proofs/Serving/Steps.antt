-- The connection of a known process stands as it should after a message, a byte, a fault, and COMMAND COMPLETE.
use Rattle.transcript_laws.proofs
use proofs.Names.{ℕ, ◌≡◌, ◌∙◌, Bool, true, false, ◌&&◌, ◌||◌, List, [], ◌∷◌, ◌++◌, reverse, Option, Some, None, refl}
use proofs.Names.{sym, ap, subst, flat_map-append, append_assoc, append-nil, reverse-append, flat_map, slice_index}
use proofs.Names.{if◌then◌else◌, wrong, or_false, Event, ProcId, MsgIn, MsgOut, is_nil, Area, CarriedBytes, area_with}
use proofs.Names.{carried_after_message, AccountValue, account_of, with_block, account_after, account_after_all}
use proofs.Names.{items_named, OpenedValue, held_part, with_part, with_in, Name, Incoming, Broken, Part, Process}
use proofs.Names.{is_void, are_talk, held_parts, base_parts, is_broken, IsAsBegun, IsServing, first_byte, IsAccountOf}
use proofs.{Names.{account_base, shown_items}, Accounts.{Items.{all_after, parts_name}, Steps.{same_account, in_step}}}
use proofs.{Accounts.Steps.{status_step, completion_step}, Parts.Base.{base_more, base_in, base_said, base_void}}
use proofs.Parts.{Base.{base_held}, Shown.{part_more, talk_more}}
use Rattle.bus_transcript.specs.declared.item.Item.{Item}
use Rattle.bus_transcript.specs.declared.part.Incoming.TheVariants.{Whole}

-- ---- lists

pub filled : {A T : Type 0} (xs : List T) (x : T) → (xs ++ x ∷ []) ≡ [] → A
filled [] x e = absurd cc
filled (y ∷ xs) x e = absurd cc

-- ---- outside COMMAND

pub no_block : (a : AccountValue) (c : CarriedBytes) → IsAccountOf a c → IsAccountOf (with_block a [] false) c
no_block a c h = record {
  block = append-nil a.block ∙ h.block;
  struck = or_false a.struck ∙ h.struck;
  first = h.first;
  saved = h.saved;
  status = h.status;
  begun = h.begun;
  shown = h.shown;
}

pub of_block : (a : AccountValue) (c : CarriedBytes) → IsAccountOf (with_block a [] false) c → IsAccountOf a c
of_block a c h = record {
  block = sym (append-nil a.block) ∙ h.block;
  struck = sym (or_false a.struck) ∙ h.struck;
  first = h.first;
  saved = h.saved;
  status = h.status;
  begun = h.begun;
  shown = h.shown;
}

-- ---- the account by its parts

abbrev pub account_by : Process → List Part → AccountValue
account_by c parts = account_after_all (account_of c []) parts

account_one : (o l : OpenedValue) (c : Process) (part : Part) → base_parts l ≡ base_parts o ++ part ∷ []
    → account_base l c ≡ account_after (account_base o c) part
account_one o l c part e =
    ap (λ (parts : List Part). account_by c parts) e ∙ all_after (account_of c []) (base_parts o) (part ∷ [])

-- The events that are told, with one more.
abbrev pub conn_items : Name → List Event → List Item
conn_items name conn = flat_map (λ event. items_named name event) (reverse conn)

pub conn_more : (name : Name) (event : Event) (conn : List Event)
    → conn_items name (event ∷ conn) ≡ conn_items name conn ++ items_named name event
conn_more name event conn =
    ap (λ (list : List Event). flat_map (λ e. items_named name e) list) (reverse-append (event ∷ []) conn)
    ∙ flat_map-append (λ e. items_named name e) (reverse conn) (event ∷ [])
    ∙ ap (λ (list : List Item). conn_items name conn ++ list) (append-nil (items_named name event))

-- ---- messages to the target

pub said_serves : (o : OpenedValue) (q : Bool) (id : ProcId) (now back : CarriedBytes)
    (conn history : List Event) (was : Bool) (before : Option ℕ) (said : List MsgOut)
    → is_void said ≡ is_void o.said → IsServing o q id now back conn history was before
    → IsServing (record o { said = said }) q id now back conn history was before
said_serves o q id now back conn history was before said e h = record {
  account = λ p b. subst (λ (parts : List Part). IsAccountOf
      (with_block (account_by p parts) (if q then o.bytes else []) (q && o.struck)) now) (sym (base_said o said e))
      (h.account p b);
  void = h.void;
  told =
      λ refused p b r. ap (λ (parts : List Part). shown_items refused (account_by p parts).items) (base_said o said e)
      ∙ h.told refused p b r;
}

held_talk : (q : Bool) (held : Option Incoming) → are_talk ((if q then [] else held_part held) ++ []) ≡ true
held_talk true held = refl
held_talk false None = refl
held_talk false (Some (Whole m)) = refl
held_talk false (Some Broken) = refl

-- MESSAGE PARITY ERROR.
pub void_serves : (o : OpenedValue) (id : ProcId) (now back : CarriedBytes) (conn history : List Event)
    (was : Bool) (before : Option ℕ) (said : List MsgOut) (m : Incoming) → is_void said ≡ true
    → o.held ≡ Some m → o.since ≡ [] → o.bytes ≡ [] → IsServing o false id now back conn history was before
    → IsServing (record o { said = said }) false id back back conn history was before
void_serves o id now back conn history was before said m e held none empty h = record {
  account = λ p b. no_block _ back (subst (λ (parts : List Part). IsAccountOf (account_by p parts) back)
      (sym (base_void o said e none)) (h.void m p held none empty b));
  void = h.void;
  told = λ refused p b r. ap (λ (parts : List Part). shown_items refused (account_by p parts).items)
      (base_void o said e none) ∙ sym (append-nil (shown_items refused (account_by p o.parts).items))
      ∙ sym (talk_more refused (account_by p o.parts) (held_parts o ++ []) (held_talk (is_void o.said) o.held)).shown
      ∙ ap (λ (a : AccountValue). shown_items refused a.items)
      (sym (all_after (account_of p []) o.parts (held_parts o ++ [])))
      ∙ ap (λ (since : List Part). shown_items refused (account_by p (o.parts ++ (held_parts o ++ since))).items)
      (sym none) ∙ h.told refused p b r;
}

-- Of a message that was broken off it changes nothing.
broken_account : (o : OpenedValue) (c : Process) → is_broken o.held ≡ true → o.since ≡ []
    → account_base o c ≡ account_by c o.parts
broken_account o c e none =
    ap (λ (since : List Part). account_by c (o.parts ++ (held_parts o ++ since))) none
    ∙ all_after (account_of c []) o.parts (held_parts o ++ [])
    ∙ go (is_void o.said) o.held e
  where
    go : (q : Bool) (held : Option Incoming) → is_broken held ≡ true
        → account_after_all (account_by c o.parts) ((if q then [] else held_part held) ++ []) ≡ account_by c o.parts
    go true held f = refl
    go false None f = wrong (sym f)
    go false (Some (Whole m)) f = wrong (sym f)
    go false (Some Broken) f = refl

pub broken_serves : (o : OpenedValue) (id : ProcId) (now back : CarriedBytes) (conn history : List Event)
    (was : Bool) (before : Option ℕ) (said : List MsgOut) → is_void said ≡ true
    → is_broken o.held ≡ true → o.since ≡ [] → IsServing o false id now back conn history was before
    → IsServing (record o { said = said }) false id now back conn history was before
broken_serves o id now back conn history was before said e broken none h = record {
  account = λ p b. subst (λ (a : AccountValue). IsAccountOf (with_block a [] false) now)
      (broken_account o p broken none ∙ sym (ap (λ (parts : List Part). account_by p parts) (base_void o said e none)))
      (h.account p b);
  void = h.void;
  told = λ refused p b r. ap (λ (a : AccountValue). shown_items refused a.items)
      (ap (λ (parts : List Part). account_by p parts) (base_void o said e none) ∙ sym (broken_account o p broken none))
      ∙ h.told refused p b r;
}

-- ---- messages to the initiator

pub in_serves : (o : OpenedValue) (id : ProcId) (now back : CarriedBytes) (conn history : List Event) (was : Bool)
    (before : Option ℕ) (m : MsgIn) → o.said ≡ [] → IsServing o false id now back conn history was before
    → IsServing (with_in o (Whole m)) false id (carried_after_message now m) now conn history was before
in_serves o id now back conn history was before m e h = record {
  account = λ p b. no_block _ (carried_after_message now m)
      (subst (λ (a : AccountValue). IsAccountOf a (carried_after_message now m))
      (sym (account_one o (with_in o (Whole m)) p (Part.In m) (base_in o (Whole m) e)))
      (in_step (account_base o p) m now (of_block (account_base o p) now (h.account p b))));
  void = λ x p held none empty b. subst (λ (parts : List Part). IsAccountOf (account_by p parts) now) (base_held o e)
      (of_block (account_base o p) now (h.account p b));
  told = λ refused p b r. ap (λ (a : AccountValue). shown_items refused a.items)
      (account_one o (with_in o (Whole m)) p (Part.In m) (base_in o (Whole m) e))
      ∙ (part_more refused (account_base o p) (Part.In m)).shown
      ∙ append-nil (shown_items refused (account_base o p).items) ∙ h.told refused p b r;
}

-- ---- bytes

pub command_serves : (o : OpenedValue) (id : ProcId) (now back : CarriedBytes)
    (conn history : List Event) (was : Bool) (before : Option ℕ) (byte : ℕ) (area : Area)
    → IsServing o true id now back conn history was before → IsServing (record o {
      bytes = o.bytes ++ byte ∷ [];
    }) true id (record now { command = area; block = now.block ++ byte ∷ [] }) back conn history was before
command_serves o id now back conn history was before byte area h = record {
  account = λ p b.
      let g = h.account p b in
      record {
        block = sym (append_assoc (account_base o p).block o.bytes (byte ∷ []))
            ∙ ap (λ (xs : List ℕ). xs ++ byte ∷ []) g.block;
        struck = g.struck;
        first = g.first;
        saved = g.saved;
        status = g.status;
        begun = g.begun;
        shown = g.shown;
      };
  void = λ m p held none empty b. filled o.bytes byte empty;
  told = h.told;
}

pub data_serves : (o : OpenedValue) (id : ProcId) (now back : CarriedBytes)
    (conn history : List Event) (was : Bool) (before : Option ℕ) (byte : ℕ) (area : Area)
    → IsServing o false id now back conn history was before → IsServing (record o {
      bytes = o.bytes ++ byte ∷ [];
    }) false id (record now { moved = area }) back conn history was before
data_serves o id now back conn history was before byte area h = record {
  account = λ p b.
      let g = h.account p b in
      record {
        block = g.block;
        struck = g.struck;
        first = g.first;
        saved = g.saved;
        status = g.status;
        begun = g.begun;
        shown = g.shown;
      };
  void = λ m p held none empty b. filled o.bytes byte empty;
  told = h.told;
}

pub status_serves : (o : OpenedValue) (id : ProcId) (now back : CarriedBytes) (conn history : List Event)
    (was : Bool) (before : Option ℕ) (byte : ℕ) → IsServing o false id now back conn history was before
    → IsServing (with_part o (Part.Status byte)) false id
    (record now { status = area_with now.status byte }) back conn history was before
status_serves o id now back conn history was before byte h = record {
  account = λ p b. no_block _ (record now { status = area_with now.status byte })
      (subst (λ (a : AccountValue). IsAccountOf a (record now { status = area_with now.status byte }))
      (sym (account_one o (with_part o (Part.Status byte)) p (Part.Status byte) (base_more o (Part.Status byte))))
      (status_step (account_base o p) now byte (of_block (account_base o p) now (h.account p b))));
  void = λ m p held none empty b. filled o.since (Part.Status byte) none;
  told = λ refused p b r. ap (λ (a : AccountValue). shown_items refused a.items)
      (account_one o (with_part o (Part.Status byte)) p (Part.Status byte) (base_more o (Part.Status byte)))
      ∙ (part_more refused (account_base o p) (Part.Status byte)).shown
      ∙ append-nil (shown_items refused (account_base o p).items) ∙ h.told refused p b r;
}

-- ---- a fault

or_true : (r q : Bool) → (r || (q || true)) ≡ true
or_true true q = refl
or_true false true = refl
or_true false false = refl

-- It strikes a byte of COMMAND, or another.
pub struck_serves : (o : OpenedValue) (id : ProcId) (now back : CarriedBytes) (conn history : List Event) (was : Bool)
    (before failure : Option ℕ) → IsServing o true id now back conn history was before → IsServing (record o {
      struck = o.struck || true;
    }) true id (record now { struck = true; failure = failure }) back conn history was before
struck_serves o id now back conn history was before failure h = record {
  account = λ p b.
      let g = h.account p b in
      record {
        block = g.block;
        struck = or_true (account_base o p).struck o.struck;
        first = g.first;
        saved = g.saved;
        status = g.status;
        begun = g.begun;
        shown = g.shown;
      };
  void = h.void;
  told = h.told;
}

pub fault_serves : (o : OpenedValue) (id : ProcId) (now back : CarriedBytes)
    (conn history : List Event) (was : Bool) (before failure : Option ℕ) (strikes : Bool)
    → IsServing o false id now back conn history was before → IsServing (record o {
      struck = o.struck || strikes;
    }) false id (record now { failure = failure }) back conn history was before
fault_serves o id now back conn history was before failure strikes h = record {
  account = λ p b.
      let g = h.account p b in
      record {
        block = g.block;
        struck = g.struck;
        first = g.first;
        saved = g.saved;
        status = g.status;
        begun = g.begun;
        shown = g.shown;
      };
  void = h.void;
  told = h.told;
}

-- ---- COMMAND COMPLETE

ended_status : (bytes : List ℕ) → is_nil bytes ≡ false → first_byte bytes ≡ Some (slice_index bytes 0)
ended_status [] e = wrong e
ended_status (b ∷ bytes) e = refl

pub end_serves : (o : OpenedValue) (id : ProcId) (now back : CarriedBytes) (conn history : List Event) (was : Bool)
    (before : Option ℕ) → is_nil now.status.bytes ≡ false → IsServing o false id now back conn history was before
    → IsServing (with_part o Part.Completion) false id now back (Event.End id (slice_index now.status.bytes 0) ∷ conn)
    (Event.End id (slice_index now.status.bytes 0) ∷ history) was before
end_serves o id now back conn history was before some h = record {
  account = λ c b. no_block _ now
      (subst (λ (a : AccountValue). IsAccountOf a now) (sym (one c)) (same_account (account_base o c)
      (account_after (account_base o c) Part.Completion) now (completion_step (account_base o c)) (plain c b)));
  void = λ m c held none empty b. filled o.since Part.Completion none;
  told = λ refused c b r. ap (λ (a : AccountValue). shown_items refused a.items) (one c)
      ∙ (part_more refused (account_base o c) Part.Completion).shown
      ∙ (λ i. h.told refused c b (record { refusal = r.refusal; answer = r.answer }) i ++ Item.End
      (parts_name (account_of c []) (base_parts o) i) (((plain c b).status ∙ ended_status now.status.bytes some) i)
      ∷ []) ∙ sym (conn_more c.name (Event.End id (slice_index now.status.bytes 0)) conn);
}
  where
    one :
        (c : Process) → account_base (with_part o Part.Completion) c ≡ account_after (account_base o c) Part.Completion
    one c = account_one o (with_part o Part.Completion) c Part.Completion (base_more o Part.Completion)

    plain : (c : Process) → IsAsBegun c was before → IsAccountOf (account_base o c) now
    plain c b = of_block (account_base o c) now (h.account c b)
