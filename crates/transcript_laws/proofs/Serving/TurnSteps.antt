-- The connection of a known process stands as it should once a phase is left.
use Rattle.transcript_laws.proofs
use proofs.Names.{ℕ, ◌≡◌, ◌∙◌, Bool, true, false, ◌&&◌, ◌||◌, not, List, [], ◌∷◌, ◌++◌, refl, sym, ap, length, ◌==◌}
use proofs.Names.{append-nil, if◌then◌else◌, LineSet, is_command, is_data, is_message_in, has_group_len, MsgOut, is_nil}
use proofs.Names.{CarriedBytes, is_whole_block, is_status_phase, AccountValue, account_of, with_block, account_after}
use proofs.Names.{account_after_all, OpenedValue, data_parts, phase_parts, phase_over, phase_entered, Name, Part}
use proofs.Names.{Process, are_talk, base_parts, out_parts, parts_now, IsAccountOf, account_base, shown_items}
use proofs.Accounts.{Items.{all_after, parts_name}, Steps.{IsSame, same_account, out_step, broken_step, command_step}}
use proofs.{Accounts.Steps.{data_step, same_on}, Parts.{Base.{base_turned}, Lists.{broken_parts}, Shown.{part_more}}}
use proofs.{Parts.Shown.{talk_more}, Serving.Steps.{of_block}}
use Rattle.bus_transcript.specs.declared.item.Item.{Item}

-- ---- the account over a phase

same_self : (a : AccountValue) → IsSame a a
same_self a = record { block = refl; struck = refl; first = refl; status = refl; shown = refl }

pub same_block : (a b : AccountValue) (bytes : List ℕ) (struck : Bool) → IsSame a b
    → IsSame (with_block a bytes struck) (with_block b bytes struck)
same_block a b bytes struck h = record {
  block = λ i. h.block i ++ bytes;
  struck = λ i. h.struck i || struck;
  first = h.first;
  status = h.status;
  shown = h.shown;
}

pub outs_same : (a : AccountValue) (said : List MsgOut) → IsSame a (account_after_all a (out_parts said))
outs_same a [] = same_self a
outs_same a (m ∷ said) = same_on a (account_after a (Part.Out m)) (account_after_all (account_after a (Part.Out m))
    (out_parts said)) (out_step a m) (outs_same (account_after a (Part.Out m)) said)

pub outs_talk : (said : List MsgOut) → are_talk (out_parts said) ≡ true
outs_talk [] = refl
outs_talk (m ∷ said) = outs_talk said

pub broken_same : (a : AccountValue) (q : Bool) → IsSame a (account_after_all a (if q then Part.BrokenOff ∷ [] else []))
broken_same a true = broken_step a
broken_same a false = same_self a

pub broken_talk : (q : Bool) → are_talk (if q then Part.BrokenOff ∷ [] else []) ≡ true
broken_talk true = refl
broken_talk false = refl

data_account : (a : AccountValue) (c : CarriedBytes) (out : Bool) (bytes : List ℕ) → IsAccountOf a c
    → IsAccountOf (account_after_all a (data_parts out bytes)) c
data_account a c out [] h = h
data_account a c out (b ∷ bytes) h =
    same_account a (account_after a (Part.Data out (b ∷ bytes))) c (data_step a out (b ∷ bytes)) h

-- The bytes of COMMAND count with the part; those of data do not.
pub phase_account : (a : AccountValue) (c : CarriedBytes) (q r out : Bool) (bytes : List ℕ) (struck left : Bool)
    → IsAccountOf (with_block a (if q then bytes else []) (q && struck)) c → IsAccountOf
    (account_after_all a (if q then Part.Command bytes struck left ∷ [] else if r then data_parts out bytes else [])) c
phase_account a c true r out bytes struck left h = same_account (with_block a bytes struck)
    (account_after a (Part.Command bytes struck left)) c (command_step a bytes struck left) h
phase_account a c false true out bytes struck left h = data_account a c out bytes (of_block a c h)
phase_account a c false false out bytes struck left h = of_block a c h

abbrev pub arrival : Bool → Name → List Item
arrival q name = if q then Item.Arrive name ∷ [] else []

pub data_shown : (refused : List Name) (a : AccountValue) (out : Bool) (bytes : List ℕ)
    → shown_items refused (account_after_all a (data_parts out bytes)).items ≡ shown_items refused a.items ++ []
data_shown refused a out [] = sym (append-nil (shown_items refused a.items))
data_shown refused a out (b ∷ bytes) = (part_more refused a (Part.Data out (b ∷ bytes))).shown

-- It shows that the command arrives where its block stands whole.
phase_shown :
    (refused : List Name) (a : AccountValue) (c : CarriedBytes) (q r out : Bool) (bytes : List ℕ) (struck : Bool)
    → IsAccountOf (with_block a (if q then bytes else []) (q && struck)) c → shown_items refused (account_after_all a
    (if q then Part.Command bytes struck true ∷ [] else if r then data_parts out bytes else [])).items
    ≡ shown_items refused a.items ++ arrival (q && is_whole_block c) a.process.name
phase_shown refused a c true r out bytes struck h = (part_more refused a (Part.Command bytes struck true)).shown
    ∙ (λ i. shown_items refused a.items
    ++ arrival (not (length (h.block i) == 0) && has_group_len (h.block i) && not (h.struck i)) a.process.name)
phase_shown refused a c false true out bytes struck h = data_shown refused a out bytes
phase_shown refused a c false false out bytes struck h = sym (append-nil (shown_items refused a.items))

-- ---- the account once the next phase stands

-- The accounts before the last part, and all of them.
abbrev pub over_account : OpenedValue → LineSet → List ℕ → Process → AccountValue
over_account o l half c = account_after_all (account_after_all (account_after_all (account_base o c) (out_parts o.said))
    (broken_parts l half)) (phase_parts o l true)

pub turned_account : (o : OpenedValue) (l after : LineSet) (half : List ℕ) (c : Process)
    → account_base (phase_entered (phase_over o l half true) after) c
    ≡ account_after_all (over_account o l half c) (if is_status_phase after then Part.StatusPhase ∷ [] else [])
turned_account o l after half c =
    let a : AccountValue = account_of c [] in
    let stat : List Part = if is_status_phase after then Part.StatusPhase ∷ [] else [] in
    ap (λ (parts : List Part). account_after_all a parts) (base_turned o l after half)
    ∙ all_after a ((parts_now o ++ broken_parts l half) ++ phase_parts o l true) stat
    ∙ ap (λ (x : AccountValue). account_after_all x stat)
    (all_after a (parts_now o ++ broken_parts l half) (phase_parts o l true)
    ∙ ap (λ (x : AccountValue). account_after_all x (phase_parts o l true))
    (all_after a (parts_now o) (broken_parts l half) ∙ ap
    (λ (x : AccountValue). account_after_all x (broken_parts l half)) (all_after a (base_parts o) (out_parts o.said))))

pub spoken_same : (o : OpenedValue) (l : LineSet) (half : List ℕ) (c : Process) → IsSame (account_base o c)
    (account_after_all (account_after_all (account_base o c) (out_parts o.said)) (broken_parts l half))
spoken_same o l half c =
    let a : AccountValue = account_after_all (account_base o c) (out_parts o.said) in
    same_on (account_base o c) a (account_after_all a (broken_parts l half)) (outs_same (account_base o c) o.said)
    (broken_same a (is_message_in l && not (is_nil half)))

pub over_is : (o : OpenedValue) (l : LineSet) (half : List ℕ) (t : Process) (c : CarriedBytes)
    → IsAccountOf (with_block (account_base o t) (if is_command l then o.bytes else []) (is_command l && o.struck)) c
    → IsAccountOf (over_account o l half t) c
over_is o l half t c h =
    let b : AccountValue = account_after_all
    (account_after_all (account_base o t) (out_parts o.said)) (broken_parts l half) in
    phase_account b c (is_command l) (is_data l) (not l.io) o.bytes o.struck true
    (same_account (with_block (account_base o t) (if is_command l then o.bytes else []) (is_command l && o.struck))
    (with_block b (if is_command l then o.bytes else []) (is_command l && o.struck)) c (same_block (account_base o t) b
    (if is_command l then o.bytes else []) (is_command l && o.struck) (spoken_same o l half t)) h)

pub over_name : (o : OpenedValue) (l : LineSet) (half : List ℕ) (c : Process)
    → (over_account o l half c).process.name ≡ c.name
over_name o l half c =
    let a : AccountValue = account_after_all (account_base o c) (out_parts o.said) in
    parts_name (account_after_all a (broken_parts l half)) (phase_parts o l true) ∙ parts_name a (broken_parts l half)
    ∙ parts_name (account_base o c) (out_parts o.said) ∙ parts_name (account_of c []) (base_parts o)

pub over_shown : (o : OpenedValue) (l : LineSet) (half : List ℕ) (t : Process) (c : CarriedBytes) (refused : List Name)
    → IsAccountOf (with_block (account_base o t) (if is_command l then o.bytes else []) (is_command l && o.struck)) c
    → shown_items refused (over_account o l half t).items
    ≡ shown_items refused (account_base o t).items ++ arrival (is_command l && is_whole_block c) t.name
over_shown o l half t c refused h =
    let a : AccountValue = account_after_all (account_base o t) (out_parts o.said) in
    let b : AccountValue = account_after_all a (broken_parts l half) in
    phase_shown refused b c (is_command l) (is_data l) (not l.io) o.bytes o.struck
    (same_account (with_block (account_base o t) (if is_command l then o.bytes else []) (is_command l && o.struck))
    (with_block b (if is_command l then o.bytes else []) (is_command l && o.struck)) c (same_block (account_base o t) b
    (if is_command l then o.bytes else []) (is_command l && o.struck) (spoken_same o l half t)) h)
    ∙ (λ i. before i ++ arrival (is_command l && is_whole_block c) (name i))
  where
    before : shown_items refused
        (account_after_all (account_after_all (account_base o t) (out_parts o.said)) (broken_parts l half)).items
        ≡ shown_items refused (account_base o t).items
    before = (talk_more refused (account_after_all (account_base o t) (out_parts o.said))
        (broken_parts l half) (broken_talk (is_message_in l && not (is_nil half)))).shown
        ∙ append-nil _ ∙ (talk_more refused (account_base o t) (out_parts o.said) (outs_talk o.said)).shown
        ∙ append-nil _

    name :
        (account_after_all (account_after_all (account_base o t) (out_parts o.said)) (broken_parts l half)).process.name
        ≡ t.name
    name =
        parts_name (account_after_all (account_base o t) (out_parts o.said)) (broken_parts l half)
        ∙ parts_name (account_base o t) (out_parts o.said)
        ∙ parts_name (account_of t []) (base_parts o)
