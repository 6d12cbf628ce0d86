-- What a connection leaves as it is over: its items, those of its account and what BUS FREE shows, and its process.
use Rattle.transcript_laws.proofs
use proofs.Names.{ℕ, ◌≡◌, ◌∙◌, Bool, true, false, ◌&&◌, not, List, [], ◌∷◌, ◌++◌, Option, Some, None, refl, sym, ap}
use proofs.Names.{subst, append_assoc, append-nil, is_some, if◌then◌else◌, Event, ProcId, LineSet, is_command, is_data}
use proofs.Names.{is_message_in, Connection, MsgOut, is_nil, CarriedBytes, AccountValue, account_of, with_block}
use proofs.Names.{account_after_all, OpenedValue, data_parts, phase_parts, process_after, with_process}
use proofs.Names.{TranscriberValue, name_of, account_parts, abort_item, departed, departed_if, closed_by, Name, Part}
use proofs.Names.{Process, Departure, Loss, Leave, Abortion, Summary, base_parts, out_parts, parts_now, closing_parts}
use proofs.{Names.{IsAsBegun, IsServing, IsAccountOf, account_base, shown_items}, Accounts.Items.{all_after}}
use proofs.{Accounts.{Items.{parts_name, behind, account_is}, Steps.{same_account}}, Parts.Lists.{over_parts}}
use proofs.{Parts.{Lists.{broken_parts}, Shown.{part_more, talk_more}}, Serving.TurnSteps.{phase_account, same_block}}
use proofs.Serving.TurnSteps.{spoken_same, outs_talk, broken_talk, data_shown}
use Rattle.bus_transcript.specs.Processes.{process_of}
use Rattle.bus_transcript.specs.declared.item.Item.{Item}
pub use Rattle.transcript_laws.proofs.Serving.Steps.{account_by}

-- ---- what is carried no longer counts

closing_account : (o : OpenedValue) (l : LineSet) (half : List ℕ) (c : Process)
    → account_by c (closing_parts o l half) ≡ account_after_all
    (account_after_all (account_after_all (account_base o c) (out_parts o.said)) (broken_parts l half))
    (phase_parts o l false)
closing_account o l half c =
    let a : AccountValue = account_of c [] in
    ap (λ (parts : List Part). account_after_all a parts) (over_parts o l half false)
    ∙ all_after a (parts_now o ++ broken_parts l half) (phase_parts o l false)
    ∙ ap (λ (x : AccountValue). account_after_all x (phase_parts o l false))
    (all_after a (parts_now o) (broken_parts l half) ∙ ap
    (λ (x : AccountValue). account_after_all x (broken_parts l half)) (all_after a (base_parts o) (out_parts o.said)))

-- The account is still what the process has carried.
pub closing_is : (o : OpenedValue) (l : LineSet) (half : List ℕ) (id : ProcId)
    (now back : CarriedBytes) (conn history : List Event) (was : Bool) (st : Option ℕ) (t : Process)
    → IsServing o (is_command l) id now back conn history was st → IsAsBegun t was st
    → IsAccountOf (account_by t (closing_parts o l half)) now
closing_is o l half id now back conn history was st t h b =
    let c : AccountValue = account_after_all
    (account_after_all (account_base o t) (out_parts o.said)) (broken_parts l half) in
    subst (λ (a : AccountValue). IsAccountOf a now) (sym (closing_account o l half t))
    (phase_account c now (is_command l) (is_data l) (not l.io) o.bytes o.struck false
    (same_account (with_block (account_base o t) (if is_command l then o.bytes else []) (is_command l && o.struck))
    (with_block c (if is_command l then o.bytes else []) (is_command l && o.struck)) now (same_block (account_base o t)
    c (if is_command l then o.bytes else []) (is_command l && o.struck) (spoken_same o l half t)) (h.account t b)))

-- And no event is shown with it.
left_shown : (refused : List Name) (a : AccountValue) (q r out : Bool) (bytes : List ℕ) (struck : Bool)
    → shown_items refused (account_after_all a
    (if q then Part.Command bytes struck false ∷ [] else if r then data_parts out bytes else [])).items
    ≡ shown_items refused a.items
left_shown refused a true r out bytes struck =
    (part_more refused a (Part.Command bytes struck false)).shown ∙ append-nil (shown_items refused a.items)
left_shown refused a false true out bytes struck =
    data_shown refused a out bytes ∙ append-nil (shown_items refused a.items)
left_shown refused a false false out bytes struck = refl

pub closing_shown : (refused : List Name) (o : OpenedValue) (l : LineSet) (half : List ℕ) (t : Process)
    → shown_items refused (account_by t (closing_parts o l half)).items ≡ shown_items refused (account_base o t).items
closing_shown refused o l half t =
    let a : AccountValue = account_after_all (account_base o t) (out_parts o.said) in
    let c : AccountValue = account_after_all a (broken_parts l half) in
    ap (λ (x : AccountValue). shown_items refused x.items) (closing_account o l half t)
    ∙ left_shown refused c (is_command l) (is_data l) (not l.io) o.bytes o.struck
    ∙ (talk_more refused a (broken_parts l half) (broken_talk (is_message_in l && not (is_nil half)))).shown
    ∙ append-nil (shown_items refused a.items)
    ∙ (talk_more refused (account_base o t) (out_parts o.said) (outs_talk o.said)).shown
    ∙ append-nil (shown_items refused (account_base o t).items)

-- Nor where the connection still stands.
pub standing_shown : (refused : List Name) (o : OpenedValue) (c : Process)
    → shown_items refused (account_by c (parts_now o)).items ≡ shown_items refused (account_base o c).items
standing_shown refused o c = ap (λ (x : AccountValue). shown_items refused x.items)
    (all_after (account_of c []) (base_parts o) (out_parts o.said))
    ∙ (talk_more refused (account_base o c) (out_parts o.said) (outs_talk o.said)).shown
    ∙ append-nil (shown_items refused (account_base o c).items)

-- ---- the items of a connection

abbrev pub abort_items : Name → Option MsgOut → List Item
abort_items name None = []
abort_items name (Some m) = abort_item name m ∷ []

abbrev pub departure_items : Name → Departure → Option MsgOut → List Item
departure_items name Loss abort = Item.Lost name ∷ []
departure_items name Leave abort = []
departure_items name Abortion abort = abort_items name abort

-- What BUS FREE shows.
abbrev pub leaving_items : Bool → Name → Summary → List Item
leaving_items free name u = if free then departure_items name u.departure u.abort else []

abbrev pub process_for : TranscriberValue → Connection → Summary → Process
process_for t n u = process_after n.reselected (is_some u.abort) (process_of t.processes (name_of n u)) (name_of n u)

departed_items : (a : AccountValue) (d : Departure) (abort : Option MsgOut)
    → (departed a d abort).items ≡ a.items ++ departure_items a.process.name d abort
departed_items a Loss abort = refl
departed_items a Leave abort = sym (append-nil a.items)
departed_items a Abortion None = sym (append-nil a.items)
departed_items a Abortion (Some m) = refl

departed_process : (a : AccountValue) (d : Departure) (abort : Option MsgOut) → (departed a d abort).process ≡ a.process
departed_process a Loss abort = refl
departed_process a Leave abort = refl
departed_process a Abortion None = refl
departed_process a Abortion (Some m) = refl

free_items : (free : Bool) (a : AccountValue) (u : Summary)
    → (departed_if free a u).items ≡ a.items ++ leaving_items free a.process.name u
free_items true a u = departed_items a u.departure u.abort
free_items false a u = sym (append-nil a.items)

free_process : (free : Bool) (a : AccountValue) (u : Summary) → (departed_if free a u).process ≡ a.process
free_process true a u = departed_process a u.departure u.abort
free_process false a u = refl

-- The items that the connection adds.
abbrev pub connection_items : Connection → Process → List Part → Bool → Summary → List Item
connection_items n c parts free u =
    Item.Connect n.began c.name n.reselected ∷ ((account_by c parts).items ++ leaving_items free c.name u)

all_items : (n : Connection) (t : Process) (parts : List Part) (list : List Item) (free : Bool) (u : Summary)
    → (departed_if free (account_parts n t parts list) u).items ≡ list ++ connection_items n t parts free u
all_items n t parts list free u =
    let c : Item = Item.Connect n.began t.name n.reselected in
    ap (λ (a : AccountValue). (departed_if free a u).items) (account_is n t parts list)
    ∙ free_items free (behind (list ++ c ∷ []) (account_by t parts)) u
    ∙ ap (λ (name : Name). ((list ++ c ∷ []) ++ (account_by t parts).items) ++ leaving_items free name u)
    (parts_name (account_of t []) parts)
    ∙ append_assoc (list ++ c ∷ []) (account_by t parts).items (leaving_items free t.name u)
    ∙ append_assoc list (c ∷ []) ((account_by t parts).items ++ leaving_items free t.name u)

pub closed_items : (t : TranscriberValue) (n : Connection) (parts : List Part) (free : Bool) (u : Summary)
    → (closed_by t n parts free u).items ≡ t.items ++ connection_items n (process_for t n u) parts free u
unfolding closed_by
closed_items t n parts free u = all_items n (process_for t n u) parts t.items free u

pub closed_processes : (t : TranscriberValue) (n : Connection) (parts : List Part) (free : Bool) (u : Summary)
    → (closed_by t n parts free u).processes
    ≡ with_process n.reselected (is_some u.abort) t.processes (account_by (process_for t n u) parts).process
unfolding closed_by
closed_processes t n parts free u = ap (λ (c : Process). with_process n.reselected (is_some u.abort) t.processes c)
    (free_process free (account_parts n (process_for t n u) parts t.items) u
    ∙ ap (λ (a : AccountValue). a.process) (account_is n (process_for t n u) parts t.items))
