-- The connection of a known process goes on as its story does when a phase is left.
use Rattle.transcript_laws.proofs
use proofs.Names.{ℕ, ◌≡◌, ◌∙◌, Bool, true, false, ◌&&◌, ◌||◌, not, List, [], ◌∷◌, ◌++◌, reverse, Option, Some, refl}
use proofs.Names.{sym, ap, subst, and_right, flat_map-append, append_assoc, append-nil, reverse-append, flat_map}
use proofs.Names.{if◌then◌else◌, wrong', and_first, Event, ProcId, LineSet, is_command, is_data, is_message_in, is_nil}
use proofs.Names.{CarriedBytes, is_whole_block, is_status_phase, by_bool, AccountValue, account_of, with_block}
use proofs.Names.{account_after_all, items_named, OpenedValue, settled, with_part, with_in, spoken, data_parts}
use proofs.Names.{phase_parts, phase_over, phase_entered, Name, Incoming, Broken, Part, Process, base_parts, out_parts}
use proofs.Names.{parts_now, IsAsBegun, IsRefused, IsServing, marked_with, IsAccountOf, is_refusal, is_answer}
use proofs.{Names.{has_refusal, account_base, shown_items}, Accounts.{Items.{all_after}, Steps.{same_account}}}
use proofs.{Parts.Lists.{spoken_holds, spoken_keeps, spoken_parts}, Past.{Closings.{account_by}, Events.{any_later}}}
use proofs.Serving.{Events.{arrivals, turn_events, ready, turn_account, status_shown, turn_shown}, Steps.{filled}}
use proofs.Serving.{Steps.{of_block, conn_items}, TurnSteps.{arrival, over_account, turned_account, over_is, over_name}}
use proofs.Serving.TurnSteps.{over_shown, outs_same}
use Rattle.bus_transcript.specs.declared.item.Item.{Item}

-- ---- lists

pub both_none : {T : Type 0} (xs ys : List T) → (xs ++ ys) ≡ [] → (xs ≡ []) × (ys ≡ [])
both_none [] ys e = (refl, e)
both_none (x ∷ xs) ys e = absurd cc

data_none : (out : Bool) (bytes : List ℕ) → data_parts out bytes ≡ [] → bytes ≡ []
data_none out [] e = refl
data_none out (b ∷ bytes) e = absurd cc

pub conn_append : (name : Name) (xs ys : List Event)
    → conn_items name (xs ++ ys) ≡ conn_items name ys ++ conn_items name xs
conn_append name xs ys = ap (λ (list : List Event). flat_map (λ e. items_named name e) list) (reverse-append xs ys)
    ∙ flat_map-append (λ e. items_named name e) (reverse ys) (reverse xs)

pub refused_less : (refused : List Name) (name : Name) (id : ProcId) (shown history : List Event)
    → IsRefused refused name id (shown ++ history) → IsRefused refused name id history
refused_less refused name id shown history r = record {
  refusal = λ e. r.refusal (any_later (λ x. is_refusal id x) shown history e);
  answer = λ e. r.answer (any_later (λ x. is_answer id x) shown history e);
}

-- ---- the bytes of the next phase

-- No byte of it has crossed.
record IsNew (o : OpenedValue) : Type 0 where
  bytes : o.bytes ≡ []
  struck : o.struck ≡ false

entered_new : (o : OpenedValue) (q : Bool) → IsNew o → IsNew (if q then with_part o Part.StatusPhase else o)
entered_new o true h = record { bytes = h.bytes; struck = h.struck }
entered_new o false h = h

turned_new : (o : OpenedValue) (l after : LineSet) (half : List ℕ)
    → IsNew (phase_entered (phase_over o l half true) after)
turned_new o l after half =
    entered_new (phase_over o l half true) (is_status_phase after) (record { bytes = refl; struck = refl })

none_if : (q : Bool) (bytes : List ℕ) → bytes ≡ [] → (if q then bytes else []) ≡ []
none_if true bytes e = e
none_if false bytes e = refl

or_none : (q r : Bool) → r ≡ false → (q || r) ≡ q
or_none true r e = refl
or_none false r e = e

new_account : (a : AccountValue) (c : CarriedBytes) (bytes : List ℕ) (struck : Bool) → bytes ≡ [] → struck ≡ false
    → IsAccountOf a c → IsAccountOf (with_block a bytes struck) c
new_account a c bytes struck e f h = record {
  block = ap (λ (xs : List ℕ). a.block ++ xs) e ∙ append-nil a.block ∙ h.block;
  struck = or_none a.struck struck f ∙ h.struck;
  first = h.first;
  saved = h.saved;
  status = h.status;
  begun = h.begun;
  shown = h.shown;
}

-- ---- what MESSAGE PARITY ERROR would bring back

pub in_no_command : (l : LineSet) → is_message_in l ≡ true → is_command l ≡ false
in_no_command l e =
    by_bool l.msg
    (λ f. ap (λ (q : Bool). not q && l.cd && not l.io) f)
    (λ f. wrong' (sym (ap (λ (q : Bool). q && l.cd && l.io) f) ∙ e))

no_phase_parts : (o : OpenedValue) (l : LineSet)
    → (is_command l ≡ false → is_data l ≡ false → o.bytes ≡ []) → phase_parts o l true ≡ [] → o.bytes ≡ []
no_phase_parts o l empty e = go (is_command l) (is_data l) refl refl e
  where
    go : (q r : Bool) → is_command l ≡ q → is_data l ≡ r
        → (if q then Part.Command o.bytes o.struck true ∷ [] else if r then data_parts (not l.io) o.bytes else []) ≡ []
        → o.bytes ≡ []
    go true r f g z = absurd cc
    go false true f g z = data_none (not l.io) o.bytes z
    go false false f g z = empty f g

now_account : (o : OpenedValue) (id : ProcId) (now back : CarriedBytes)
    (conn history : List Event) (was : Bool) (st : Option ℕ) (q : Bool) (c : Process)
    → q ≡ false → IsServing o q id now back conn history was st → IsAsBegun c was st
    → IsAccountOf (account_by c (parts_now o)) now
now_account o id now back conn history was st q c off h b = subst (λ (a : AccountValue). IsAccountOf a now)
    (sym (all_after (account_of c []) (base_parts o) (out_parts o.said)))
    (same_account (account_base o c) (account_after_all (account_base o c) (out_parts o.said)) now
    (outs_same (account_base o c) o.said) (of_block (account_base o c) now
    (subst (λ (r : Bool). IsAccountOf (with_block (account_base o c) (if r then o.bytes else []) (r && o.struck)) now)
    off (h.account c b))))

pub void_over : (o : OpenedValue) (l : LineSet) (half : List ℕ) (id : ProcId)
    (now back : CarriedBytes) (conn history : List Event) (was : Bool) (st : Option ℕ) (broken : Bool)
    → (is_message_in l && not (is_nil half)) ≡ broken → (is_command l ≡ false → is_data l ≡ false → o.bytes ≡ [])
    → (broken ≡ true → (a : AccountValue) → IsAccountOf a now → IsAccountOf a back)
    → IsServing o (is_command l) id now back conn history was st → (m : Incoming) (c : Process)
    → (if broken then with_in (spoken o) Broken else spoken o).held ≡ Some m
    → ((if broken then with_in (spoken o) Broken else spoken o).since
    ++ phase_parts (if broken then with_in (spoken o) Broken else spoken o) l true) ≡ [] → IsAsBegun c was st
    → IsAccountOf (account_by c (if broken then with_in (spoken o) Broken else spoken o).parts) back
void_over o l half id now back conn history was st true e empty same h m c held none b = same refl
    (account_by c (settled (spoken o) false).parts) (subst (λ (parts : List Part). IsAccountOf (account_by c parts) now)
    (sym (spoken_parts o)) (now_account o id now back conn history was st (is_command l) c
    (in_no_command l (and_first (is_message_in l) (not (is_nil half)) e)) h b))
void_over o l half id now back conn history was st false e empty same h m c held none b =
    let g = spoken_holds o m held in
    let g' = spoken_keeps o in
    let parts = both_none (spoken o).since (phase_parts (spoken o) l true) none in
    let bytes : o.bytes ≡ [] = sym g'.bytes ∙ no_phase_parts (spoken o) l (λ x y. g'.bytes ∙ empty x y) parts.1 in
    subst (λ (list : List Part). IsAccountOf (account_by c list) back) (sym g.parts)
    (h.void m c (sym g.held ∙ held) (sym g.since ∙ parts.0) bytes b)

pub void_turned : (o : OpenedValue) (l : LineSet) (half : List ℕ) (begins : Bool) (id : ProcId)
    (now back : CarriedBytes) (conn history : List Event) (was : Bool) (st : Option ℕ)
    → (is_command l ≡ false → is_data l ≡ false → o.bytes ≡ [])
    → ((is_message_in l && not (is_nil half)) ≡ true → (a : AccountValue) → IsAccountOf a now → IsAccountOf a back)
    → IsServing o (is_command l) id now back conn history was st → (m : Incoming) (c : Process)
    → (if begins then with_part (phase_over o l half true) Part.StatusPhase else phase_over o l half true).held ≡ Some m
    → (if begins then with_part (phase_over o l half true) Part.StatusPhase else phase_over o l half true).since ≡ []
    → IsAsBegun c was st → IsAccountOf (account_by c
    (if begins then with_part (phase_over o l half true) Part.StatusPhase else phase_over o l half true).parts) back
void_turned o l half true id now back conn history was st empty same h m c held none b =
    filled (phase_over o l half true).since Part.StatusPhase none
void_turned o l half false id now back conn history was st empty same h m c held none b = void_over o l half id now back
    conn history was st (is_message_in l && not (is_nil half)) refl empty same h m c held none b

-- A message that is broken off brings back what holds.
cut_over : (o : OpenedValue) (l : LineSet) (half : List ℕ) (id : ProcId) (now back : CarriedBytes)
    (conn history : List Event) (was : Bool) (st : Option ℕ) (broken : Bool)
    → (is_message_in l && not (is_nil half)) ≡ broken → broken ≡ true
    → IsServing o (is_command l) id now back conn history was st → (c : Process) → IsAsBegun c was st
    → IsAccountOf (account_by c (if broken then with_in (spoken o) Broken else spoken o).parts) now
cut_over o l half id now back conn history was st true e cut h c b =
    subst (λ (parts : List Part). IsAccountOf (account_by c parts) now) (sym (spoken_parts o)) (now_account o id now
    back conn history was st (is_command l) c (in_no_command l (and_first (is_message_in l) (not (is_nil half)) e)) h b)
cut_over o l half id now back conn history was st false e cut h c b = wrong' cut

pub cut_turned : (o : OpenedValue) (l : LineSet) (half : List ℕ) (begins : Bool) (id : ProcId) (now back : CarriedBytes)
    (conn history : List Event) (was : Bool) (st : Option ℕ) → (is_message_in l && not (is_nil half)) ≡ true
    → IsServing o (is_command l) id now back conn history was st → (m : Incoming) (c : Process)
    → (if begins then with_part (phase_over o l half true) Part.StatusPhase else phase_over o l half true).held ≡ Some m
    → (if begins then with_part (phase_over o l half true) Part.StatusPhase else phase_over o l half true).since ≡ []
    → IsAsBegun c was st → IsAccountOf (account_by c
    (if begins then with_part (phase_over o l half true) Part.StatusPhase else phase_over o l half true).parts) now
cut_turned o l half true id now back conn history was st cut h m c held none b =
    filled (phase_over o l half true).since Part.StatusPhase none
cut_turned o l half false id now back conn history was st cut h m c held none b =
    cut_over o l half id now back conn history was st (is_message_in l && not (is_nil half)) refl cut h c b

-- ---- the turn

-- What MESSAGE PARITY ERROR would bring back after it.
abbrev pub IsVoid : OpenedValue → CarriedBytes → Bool → Option ℕ → Type 0
IsVoid o back was st = (m : Incoming) (c : Process) → o.held ≡ Some m → o.since ≡ [] → IsAsBegun c was st
    → IsAccountOf (account_by c o.parts) back

pub turn_serves : (o : OpenedValue) (l after : LineSet) (half : List ℕ) (id : ProcId) (now before back : CarriedBytes)
    (conn history : List Event) (was : Bool) (st : Option ℕ) (room : Bool) → now.id ≡ id
    → now.refused ≡ has_refusal history id → IsVoid (phase_entered (phase_over o l half true) after) back was st
    → IsServing o (is_command l) id now before conn history was st
    → IsServing (phase_entered (phase_over o l half true) after) (is_command after) id (marked_with now
    (turn_events (is_status_phase after) now (arrivals (is_command l && is_whole_block now) room now.id))) back
    (turn_events (is_status_phase after) now (arrivals (is_command l && is_whole_block now) room now.id) ++ conn)
    (turn_events (is_status_phase after) now (arrivals (is_command l && is_whole_block now) room now.id) ++ history) was
    st
turn_serves o l after half id now before back conn history was st room own marked brings h = record {
  account = λ p b. new_account (account_base (phase_entered (phase_over o l half true) after) p)
      (marked_with now shown) _ _ (none_if (is_command after) _ (turned_new o l after half).bytes)
      (and_right (is_command after) _ (turned_new o l after half).struck)
      (subst (λ (a : AccountValue). IsAccountOf a (marked_with now shown)) (sym (turned_account o l after half p))
      (turn_account (over_account o l half p) now (is_command l && is_whole_block now) room
      (is_status_phase after) now.id (over_is o l half p now (h.account p b))));
  void = λ m p held none bytes b. brings m p held none b;
  told = λ refused p b r.
      let a : AccountValue = over_account o l half p in
      let list : List Item = if is_status_phase after then ready refused a.process.shown a.process.name else [] in
      ap (λ (x : AccountValue). shown_items refused x.items) (turned_account o l after half p)
      ∙ status_shown refused a (is_status_phase after)
      ∙ ap (λ (xs : List Item). xs ++ list) (over_shown o l half p now refused (h.account p b)) ∙ append_assoc
      (shown_items refused (account_base o p).items) (arrival (is_command l && is_whole_block now) p.name) list
      ∙ (λ i. h.told refused p b (refused_less refused p.name id shown history r) i
      ++ turn_shown refused a now p.name id (is_command l && is_whole_block now) room
      (is_status_phase after) history own marked (over_name o l half p) (over_is o l half p now (h.account p b)) r i)
      ∙ sym (conn_append p.name shown conn);
}
  where
    shown : List Event
    shown = turn_events (is_status_phase after) now (arrivals (is_command l && is_whole_block now) room now.id)
