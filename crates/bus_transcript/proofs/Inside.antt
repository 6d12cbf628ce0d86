-- Each event of a transcript stands in a connection of its process.
use Rattle.std.proofs.Common.{ℕ, ◌≡◌, ◌∙◌, Bool, true, false, List, [], ◌∷◌, ◌++◌, Option, Some, None, refl, sym, ap}
use Rattle.std.specs.Prelude.{◌&&◌, is_none, if◌then◌else◌}
use Rattle.std.proofs.lemmas.Bool.{eq-eqb, and_from}
use Rattle.bus_trace.specs.Changes.{rises, falls}
use Rattle.bus_trace.specs.declared.rows.Kind.{Kind}
use Rattle.bus_trace.specs.declared.rows.Row.{Row}
use Rattle.bus_trace.specs.declared.selection.Call.{Call}
use Rattle.bus_trace.specs.declared.selection.Calling.{Calling}
use Rattle.bus_trace.specs.declared.connection.Connection.{Connection}
use Rattle.msg_grammar.specs.declared.message.MsgIn.{MsgIn}
use Rattle.msg_grammar.specs.declared.message.MsgIn.TheVariants as to_initiator
use Rattle.msg_grammar.specs.declared.message.MsgOut.{MsgOut}
use Rattle.story_model.specs.BusState.{RowReading, row_reading}
use Rattle.bus_transcript.specs.declared.item.Name.{Name}
use Rattle.bus_transcript.specs.declared.item.Item.{Item}
use Rattle.bus_transcript.specs.declared.item.Item.TheVariants as items
use Rattle.bus_transcript.specs.declared.part.Part.{Part}
use Rattle.bus_transcript.specs.declared.part.Part.TheVariants as parts_of
use Rattle.bus_transcript.specs.declared.process.Process.{Process}
use Rattle.bus_transcript.specs.declared.summary.Departure.{Departure}
use Rattle.bus_transcript.specs.declared.summary.Departure.TheVariants.{Loss, Leave, Abortion}
use Rattle.bus_transcript.specs.declared.summary.Summary.{Summary}
use Rattle.bus_transcript.specs.Accounts.{AccountValue, with_item, with_block, with_cdb, is_whole, arrived, after_in}
use Rattle.bus_transcript.specs.Accounts.{account_after, account_after_all}
use Rattle.bus_transcript.specs.Opened.{OpenedValue}
use Rattle.bus_transcript.specs.Events.{same_name, name_after, last_name, is_of_last, is_in, are_in}
use Rattle.bus_transcript.specs.Rows.{TranscriberValue, with_items, abort_item, account_from, account_parts, departed}
use Rattle.bus_transcript.specs.Rows.{departed_if, closed_by, closed_if, reset_items, free_items, under_reset}
use Rattle.bus_transcript.specs.Rows.{unanswered_by, unanswered_items, in_connection, on_bus, by_change, transcribed}
use Rattle.bus_transcript.specs.Rows.{finished_if, transcript_of}
use Rattle.array_model.proofs.SeatLookups.{number_same}

-- ---- names

pub name_same : (n : Name) → same_name n n ≡ true
name_same n =
    and_from _ _ (and_from _ _ (and_from _ _ (eq-eqb n.initiator n.initiator refl) (eq-eqb n.target n.target refl))
    (and_from _ _ (number_same n.unit) (number_same n.tag))) (eq-eqb n.number n.number refl)

nexus_same : (n : Name) → is_of_last (Some n) n.initiator n.target n.unit ≡ true
nexus_same n = and_from _ _ (and_from _ _ (eq-eqb n.initiator n.initiator refl) (eq-eqb n.target n.target refl))
    (number_same n.unit)

-- ---- lists

in_turn : (a b c : Bool) → (a && (b && c)) ≡ ((a && b) && c)
in_turn true b c = refl
in_turn false b c = refl

in_append : (last : Option Name) (xs ys : List Item)
    → are_in last (xs ++ ys) ≡ (are_in last xs && are_in (last_name last xs) ys)
in_append last [] ys = refl
in_append last (x ∷ xs) ys =
    ap (λ (q : Bool). is_in last x && q) (in_append (name_after last x) xs ys)
    ∙ in_turn (is_in last x) (are_in (name_after last x) xs) (are_in (last_name (name_after last x) xs) ys)

last_append : (last : Option Name) (xs ys : List Item) → last_name last (xs ++ ys) ≡ last_name (last_name last xs) ys
last_append last [] ys = refl
last_append last (x ∷ xs) ys = last_append (name_after last x) xs ys

past_in : (list more : List Item) → are_in None list ≡ true → ((last : Option Name) → are_in last more ≡ true)
    → are_in None (list ++ more) ≡ true
past_in list more are all = in_append None list more
    ∙ and_from (are_in None list) (are_in (last_name None list) more) are (all (last_name None list))

-- ---- the account of a connection

record IsInside (a : AccountValue) : Type 0 where
  pub are : are_in None a.items ≡ true
  pub last : last_name None a.items ≡ Some a.process.name

item_inside : (a : AccountValue) (item : Item) → IsInside a → is_in (Some a.process.name) item ≡ true
    → ((last : Option Name) → name_after last item ≡ last) → IsInside (with_item a item)
item_inside a item h is keeps = record {
  are =
      in_append None a.items (item ∷ [])
      ∙ (λ i. h.are i && (is_in (h.last i) item && true))
      ∙ ap (λ (q : Bool). true && (q && true)) is;
  last = last_append None a.items (item ∷ []) ∙ keeps (last_name None a.items) ∙ h.last;
}

chosen_inside : (q : Bool) (a b : AccountValue) → IsInside a → IsInside b → IsInside (if q then a else b)
chosen_inside true a b x y = x
chosen_inside false a b x y = y

cdb_inside : (a : AccountValue) (bytes : List ℕ) → IsInside a → IsInside (with_cdb a bytes)
cdb_inside a [] h = h
cdb_inside a (b ∷ bytes) h = item_inside a (items.Cdb (b ∷ bytes)) h refl (λ last. refl)

arrived_inside : (a : AccountValue) (left : Bool) → IsInside a → IsInside (arrived a left)
arrived_inside a left h = chosen_inside (left && is_whole a.block a.struck) (with_item a (items.Arrive a.process.name))
    a (item_inside a (items.Arrive a.process.name) h (name_same a.process.name) (λ last. refl)) h

in_inside : (a : AccountValue) (m : MsgIn) → IsInside a → IsInside (after_in a m)
in_inside a to_initiator.CommandComplete h = h
in_inside a to_initiator.SavePointer h = record { are = h.are; last = h.last }
in_inside a to_initiator.RestorePointers h = record { are = h.are; last = h.last }
in_inside a to_initiator.Disconnect h = h
in_inside a (to_initiator.Identify lun) h = h
in_inside a (to_initiator.SimpleTag tag) h = h
in_inside a (to_initiator.Sdtr offer) h = h
in_inside a to_initiator.Reject h = h

pub status_name : (q : Bool) (p : Process) (byte : ℕ) → (if q then record p { status = Some byte } else p).name ≡ p.name
status_name true p byte = refl
status_name false p byte = refl

ready_inside : (a : AccountValue) → IsInside a
    → IsInside (record (with_item a (items.Ready a.process.name)) { process = record a.process { shown = true } })
ready_inside a h =
    let k = item_inside a (items.Ready a.process.name) h (name_same a.process.name) (λ last. refl) in
    record { are = k.are; last = k.last }

status_inside : (a : AccountValue) (byte : ℕ) → IsInside a → IsInside (account_after a (parts_of.Status byte))
status_inside a byte h =
    let k = item_inside a (items.Status byte) h refl (λ last. refl) in
    let same : a.process.name ≡ (account_after a (parts_of.Status byte)).process.name = sym
    (status_name a.status_first a.process byte) in
    record { are = k.are; last = k.last ∙ (λ i. Some (same i)) }

data_inside : (a : AccountValue) (out : Bool) (bytes : List ℕ) → IsInside a
    → IsInside (account_after a (parts_of.Data out bytes))
data_inside a out bytes h =
    let k = item_inside a (items.Payload out a.active bytes) h refl (λ last. refl) in
    record { are = k.are; last = k.last }

block_inside : (a : AccountValue) (bytes : List ℕ) (struck : Bool) → IsInside a → IsInside (with_block a bytes struck)
block_inside a bytes struck h = record { are = h.are; last = h.last }

part_inside : (a : AccountValue) (part : Part) → IsInside a → IsInside (account_after a part)
part_inside a (parts_of.Out m) h = item_inside a (items.Out m) h refl (λ last. refl)
part_inside a (parts_of.In m) h =
    in_inside (with_item a (items.In m)) m (item_inside a (items.In m) h refl (λ last. refl))
part_inside a parts_of.BrokenOff h = h
part_inside a (parts_of.Command bytes struck left) h = arrived_inside (with_cdb (with_block a bytes struck) bytes) left
    (cdb_inside (with_block a bytes struck) bytes (block_inside a bytes struck h))
part_inside a (parts_of.Data out bytes) h = data_inside a out bytes h
part_inside a parts_of.StatusPhase h = chosen_inside a.process.shown a
    (record (with_item a (items.Ready a.process.name)) { process = record a.process { shown = true } }) h
    (ready_inside a h)
part_inside a (parts_of.Status byte) h = status_inside a byte h
part_inside a parts_of.Completion h =
    item_inside a (items.End a.process.name a.process.status) h (name_same a.process.name) (λ last. refl)

parts_inside : (a : AccountValue) (parts : List Part) → IsInside a → IsInside (account_after_all a parts)
parts_inside a [] h = h
parts_inside a (part ∷ parts) h = parts_inside (account_after a part) parts (part_inside a part h)

departed_inside : (a : AccountValue) (d : Departure) (abort : Option MsgOut) → IsInside a
    → IsInside (departed a d abort)
departed_inside a Loss abort h = item_inside a (items.Lost a.process.name) h (name_same a.process.name) (λ last. refl)
departed_inside a Leave abort h = h
departed_inside a Abortion None h = h
departed_inside a Abortion (Some m) h =
    item_inside a (abort_item a.process.name m) h (nexus_same a.process.name) (λ last. refl)

from_inside : (n : Connection) (p : Process) (list : List Item) → are_in None list ≡ true
    → IsInside (account_from n p list)
from_inside n p list are = record {
  are = past_in list (items.Connect n.began p.name n.reselected ∷ []) are (λ last. refl);
  last = last_append None list (items.Connect n.began p.name n.reselected ∷ []);
}

account_inside : (n : Connection) (p : Process) (parts : List Part) (list : List Item) (free : Bool) (s : Summary)
    → are_in None list ≡ true → are_in None (departed_if free (account_parts n p parts list) s).items ≡ true
account_inside n p parts list free s are =
    let a = account_parts n p parts list in
    let h : IsInside a = parts_inside (account_from n p list) parts (from_inside n p list are) in
    (chosen_inside free (departed a s.departure s.abort) a (departed_inside a s.departure s.abort h) h).are

closed_inside : (t : TranscriberValue) (n : Connection) (parts : List Part) (free : Bool) (s : Summary)
    → are_in None t.items ≡ true → are_in None (closed_by t n parts free s).items ≡ true
unfolding closed_by
closed_inside t n parts free s are = account_inside n _ parts t.items free s are

if_inside : (t : TranscriberValue) (k : Option OpenedValue) (d : RowReading) (free : Bool) → are_in None t.items ≡ true
    → are_in None (closed_if t k d free).items ≡ true
if_inside t None d free are = are
if_inside t (Some k) d free are = closed_inside t _ _ free _ are

-- ---- a row

free_in : (before after : Option Connection) (time : ℕ) (last : Option Name)
    → are_in last (free_items before after time) ≡ true
free_in None after time last = refl
free_in (Some n) None time last = refl
free_in (Some n) (Some m) time last = refl

listed_in : (q : Bool) (list : List Item) (last : Option Name) → are_in last list ≡ true
    → are_in last (if q then list else []) ≡ true
listed_in true list last are = are
listed_in false list last are = refl

unanswered_in : (caller : ℕ) (calling : Option Calling) (time : ℕ) (last : Option Name)
    → are_in last (unanswered_by caller calling time) ≡ true
unanswered_in caller None time last = refl
unanswered_in caller (Some k) time last =
    listed_in (is_none k.answered) (items.Unanswered time caller k.called ∷ []) last refl

call_in : (call : Option Call) (time : ℕ) (last : Option Name) → are_in last (unanswered_items call time) ≡ true
call_in None time last = refl
call_in (Some k) time last = unanswered_in k.caller k.calling time last

free_bus_in : (q : Bool) (t : TranscriberValue) (time : ℕ) → are_in None t.items ≡ true
    → are_in None (if q then with_items t (unanswered_items t.bus_state.call time) else t).items ≡ true
free_bus_in true t time are =
    past_in t.items (unanswered_items t.bus_state.call time) are (call_in t.bus_state.call time)
free_bus_in false t time are = are

in_connection_in : (t : TranscriberValue) (k : Option OpenedValue) (d : RowReading) (kind : Kind)
    → are_in None t.items ≡ true → are_in None (in_connection t k d kind).items ≡ true
in_connection_in t None d kind are = are
in_connection_in t (Some k) d kind are = are

on_bus_in : (t : TranscriberValue) (before after : Option Connection) (d : RowReading) (row : Row)
    → are_in None t.items ≡ true → are_in None (on_bus t before after d row).items ≡ true
on_bus_in t None None d row are = free_bus_in (falls d.change.before.sel d.change.after.sel) t row.time are
on_bus_in t None (Some n) d row are = are
on_bus_in t (Some m) None d row are = past_in (closed_if t t.opened d true).items (items.Free row.time ∷ [])
    (if_inside t t.opened d true are) (λ last. refl)
on_bus_in t (Some m) (Some n) d row are = in_connection_in t t.opened d row.kind are

under_reset_in : (t : TranscriberValue) (d : RowReading) (row : Row) → are_in None t.items ≡ true
    → are_in None (under_reset t d row).items ≡ true
under_reset_in t d row are =
    let closed = closed_if t t.opened d false in
    let reset = reset_items d.change row.dev in
    past_in (closed.items ++ reset) (free_items t.bus_state.connection d.next row.time)
    (past_in closed.items reset (if_inside t t.opened d false are)
    (λ last. listed_in (rises d.change.own.rst d.change.next.rst) (items.Reset row.dev ∷ []) last refl))
    (free_in t.bus_state.connection d.next row.time)

change_in : (q : Bool) (t : TranscriberValue) (d : RowReading) (row : Row) → are_in None t.items ≡ true
    → are_in None (if q then under_reset t d row else on_bus t t.bus_state.connection d.next d row).items ≡ true
change_in true t d row are = under_reset_in t d row are
change_in false t d row are = on_bus_in t t.bus_state.connection d.next d row are

row_in : (t : TranscriberValue) (d : RowReading) (row : Row) → are_in None t.items ≡ true
    → are_in None (by_change t d row).items ≡ true
unfolding by_change
row_in t d row are = change_in d.change.after.rst t d row are

seen_in : (rows : List Row) → are_in None (transcribed rows).items ≡ true
seen_in [] = refl
seen_in (row ∷ rows) = row_in (transcribed rows) (row_reading (transcribed rows).bus_state row) row (seen_in rows)

last_in : (t : TranscriberValue) (k : Option OpenedValue) → are_in None t.items ≡ true
    → are_in None (finished_if t k).items ≡ true
last_in t None are = are
last_in t (Some k) are = closed_inside t _ _ false _ are

pub all_in : (rows : List Row) → are_in None (transcript_of rows) ≡ true
all_in rows = last_in (transcribed rows) (transcribed rows).opened (seen_in rows)
