-- What an initiator holds of its own connection and of its own processes goes on by what a row does.
use Rattle.std.proofs.Common.{ℕ, ◌≡◌, ◌+◌, Bool, true, false, List, [], ◌∷◌, ◌∙◌, refl, sym, subst, arith, Option, Some}
use Rattle.std.proofs.Common.{None}
use Rattle.std.specs.Prelude.{if◌then◌else◌, ◌&&◌, ◌==◌, ◌%◌, map, is_some, is_none}
use Rattle.bus_base.specs.declared.ProcId.{ProcId}
use Rattle.bus_trace.specs.declared.Row.{Row}
use Rattle.bus_trace.specs.declared.Kind.{Kind}
use Rattle.bus_trace.specs.declared.Kind.TheVariants.{Drives, Fault}
use Rattle.bus_trace.specs.declared.changes.Change.{Change}
use Rattle.msg_grammar.specs.declared.message.MsgOut.{MsgOut}
use Rattle.msg_grammar.specs.declared.message.MsgOut.TheVariants as to_target
use Rattle.msg_grammar.specs.declared.message.MsgIn.{MsgIn}
use Rattle.msg_grammar.specs.declared.message.MsgIn.TheVariants as to_initiator
use Rattle.scenario.specs.declared.value.CmdDef.{CmdDef}
use Rattle.scenario.specs.Value.{ScenarioValue}
use Rattle.due_model.specs.array_model.specs.Processes.{command_at}
use Rattle.due_model.specs.array_model.specs.Order.{same_number, tag_number}
use Rattle.story_model.specs.BusState.{RowReading}
use Rattle.story_model.specs.Items.{Item, process, abort, Sent, command_item, sense_item, is_open, is_of_host}
use Rattle.story_model.specs.Links.{Link, last_out, last_in, is_open_sense, named_item_from, link_after_name}
use Rattle.story_model.specs.CarriedBytes.{CarriedBytes, carried_of, carried_after_byte, carried_after_fault}
use Rattle.story_model.specs.Story.{Story}
use Rattle.story_model.specs.HistoryEvents.{carried_if}
use Rattle.story_model.specs.TraceHistory.{is_parity_error, carried_after_message_if, carried_after_byte_if}
use Rattle.story_model.specs.TraceHistory.{carried_after_fault_if, story_with_restored, story_with_carried}
use Rattle.story_model.specs.TraceHistory.{story_after_out, story_after_message, story_after_name, story_after_in}
use Rattle.story_model.specs.TraceHistory.{story_after_byte, story_after_fault, story_after_crossing}
use Rattle.story_model.specs.TraceHistory.{story_in_connection}
use Rattle.due_model.specs.Wants.{own_command, own_commands}
use Rattle.initiator_books.specs.declared.mine.Mine.{Mine}
use Rattle.initiator_books.specs.declared.mine.OwnItem.{OwnItem}
use Rattle.initiator_books.specs.declared.mine.OwnItem.TheVariants as own
use Rattle.initiator_books.specs.declared.held.HeldPair.{HeldPair}
use Rattle.initiator_books.specs.declared.own_link.Undo.{Undo}
use Rattle.initiator_books.specs.declared.own_link.OwnLink.{OwnLink}
use Rattle.initiator_books.specs.Mines.{mine_of, mines_of}
use Rattle.initiator_books.specs.Books.{item_if}
use Rattle.initiator_books.specs.Wishes.{IsItemIf}
use Rattle.initiator_books.specs.HeldPointers.{restored_if, message_if, byte_if, AreHeldOf}
use Rattle.initiator_books.specs.OwnLinks.{process_in, named_in, link_with_name, last_after_out, last_after_in, undo_of}
use Rattle.initiator_books.specs.OwnLinks.{undone, last_of, IsUndoIf, IsLinkOf, IsLinkIf}
use Rattle.initiator.specs.Transfers.{TransfersValue, transfers_after_out, transfers_after_name, transfers_after_byte}
use Rattle.initiator.specs.Transfers.{transfers_after_crossing, transfers_in_link}
use Rattle.due_model.specs.dialogue_model.specs.declared.exchange.Hearing.{Hearing}
use Rattle.story_model.proofs.CarriedLists.{carried_id}
use Rattle.initiator_books.proofs.HeldSteps.{held_restore, held_message, held_byte, held_fault, held_on, held_stays}
use Rattle.initiator.proofs.OwnedLinks.{IsCarriedOf, IsOwned, IsOwnedIf, IsNamed, named, name_link}
use Rattle.initiator_books.proofs.Mines.{mines_from}
use Rattle.story_model.proofs.StorySteps.{out_link, message_id, fault_link}

-- ---- the process that a target names

pub named_is : (b : Sent) (dev target unit : ℕ) (tag : Option ℕ) (k : ℕ) (commands : List CmdDef)
    → item_if (named_in (mines_from b dev k commands) target unit tag)
    ≡ named_item_from b dev target unit tag k commands
named_is b dev target unit tag k [] = refl
named_is b dev target unit tag k (c ∷ commands) = go (named_is b dev target unit tag (k + 1) commands) (c.host == dev)
  where
    pick : item_if (named_in (mines_from b dev (k + 1) commands) target unit tag)
        ≡ named_item_from b dev target unit tag (k + 1) commands
        → (p q : Bool) → item_if (if p then Some (own.Command k)
        else if q then Some (own.Sense k) else named_in (mines_from b dev (k + 1) commands) target unit tag)
        ≡ (if p then Some (command_item k)
        else if q then Some (sense_item k) else named_item_from b dev target unit tag (k + 1) commands)
    pick r true q = refl
    pick r false true = refl
    pick r false false = r

    go : item_if (named_in (mines_from b dev (k + 1) commands) target unit tag)
        ≡ named_item_from b dev target unit tag (k + 1) commands
        → (o : Bool) → item_if (named_in (map (mine_of b.checks)
        (if o then own_command b k c ∷ own_commands b dev (k + 1) commands else own_commands b dev (k + 1) commands))
        target unit tag)
        ≡ (if (o && c.target == target && c.unit == unit) && is_open b k && same_number (tag_number c.tag) tag
        then Some (command_item k)
        else if (o && c.target == target && c.unit == unit) && is_open_sense b k && same_number None tag
        then Some (sense_item k) else named_item_from b dev target unit tag (k + 1) commands)
    go r true = pick r ((c.target == target && c.unit == unit) && is_open b k && same_number (tag_number c.tag) tag)
        ((c.target == target && c.unit == unit) && is_open_sense b k && same_number None tag)
    go r false = r

-- What a message names, at both.
record IsNext (dev : ℕ) (next : Link) (o : OwnLink) : Type 0 where
  initiator : next.initiator ≡ dev
  target : o.target ≡ next.target
  item : item_if o.item ≡ next.item
  unit : o.unit ≡ next.unit

next_named : (s : ScenarioValue) (b : Sent) (dev : ℕ) (mines : List Mine) (l : Link) (o : OwnLink) (m : MsgIn)
    → mines ≡ mines_of b dev s.commands → IsLinkOf dev l o
    → IsNext dev (link_after_name b s.commands l m) (link_with_name mines o m)
next_named s b dev mines l o m book h = go m
  where
    by_name : (unit : ℕ) (tag : Option ℕ)
        → item_if (named_in mines o.target unit tag) ≡ named_item_from b l.initiator l.target unit tag 1 s.commands
    by_name unit tag =
        (λ i. item_if (named_in (book i) (h.target_is i) unit tag))
        ∙ named_is b dev l.target unit tag 1 s.commands
        ∙ (λ i. named_item_from b (sym h.initiator_is i) l.target unit tag 1 s.commands)

    go : (m : MsgIn) → IsNext dev (link_after_name b s.commands l m) (link_with_name mines o m)
    go (to_initiator.Identify lun) =
        record { initiator = h.initiator_is; target = h.target_is; item = by_name lun None; unit = refl }
    go (to_initiator.SimpleTag n) = record {
      initiator = h.initiator_is;
      target = h.target_is;
      item = (λ i. item_if (named_in mines o.target (h.unit_is i) (Some n))) ∙ by_name l.unit (Some n);
      unit = h.unit_is;
    }
    go to_initiator.CommandComplete =
        record { initiator = h.initiator_is; target = h.target_is; item = h.item_is; unit = h.unit_is }
    go to_initiator.SavePointer =
        record { initiator = h.initiator_is; target = h.target_is; item = h.item_is; unit = h.unit_is }
    go to_initiator.RestorePointers =
        record { initiator = h.initiator_is; target = h.target_is; item = h.item_is; unit = h.unit_is }
    go to_initiator.Disconnect =
        record { initiator = h.initiator_is; target = h.target_is; item = h.item_is; unit = h.unit_is }
    go (to_initiator.Sdtr a) =
        record { initiator = h.initiator_is; target = h.target_is; item = h.item_is; unit = h.unit_is }
    go to_initiator.Reject =
        record { initiator = h.initiator_is; target = h.target_is; item = h.item_is; unit = h.unit_is }

-- ---- what a process of its own carries

pub restored_held : (s : ScenarioValue) (dev : ℕ) (b : Story) (all : List HeldPair) (i : Option OwnItem)
    → IsItemIf s dev (item_if i) → AreHeldOf s dev b.carried all
    → AreHeldOf s dev (story_with_restored b (item_if i)).carried (restored_if all (process_in i))
restored_held s dev b all None mine h = h
restored_held s dev b all (Some (own.Command n)) mine h = held_on s dev b.carried all
    (record { command = n; sense = false }) _ _ (carried_id b.carried (record { command = n; sense = false })) mine
    (held_restore _ _ (h.held (record { command = n; sense = false }) mine)) h
restored_held s dev b all (Some (own.Sense n)) mine h = held_on s dev b.carried all
    (record { command = n; sense = true }) _ _ (carried_id b.carried (record { command = n; sense = true })) mine
    (held_restore _ _ (h.held (record { command = n; sense = true }) mine)) h
restored_held s dev b all (Some (own.Abort n)) mine h = h

pub byte_id : (k : CarriedBytes) (c : Change) → (carried_after_byte k c.before (c.after.data_bits % 256)).id ≡ k.id
byte_id k c = grind arith

fault_id : (k : CarriedBytes) (c : Change) → (carried_after_fault k c.before).id ≡ k.id
fault_id k c = grind arith

message_held :
    (s : ScenarioValue) (dev : ℕ) (b : Story) (l : Link) (m : MsgIn) (all : List HeldPair) (i : Option OwnItem)
    → IsItemIf s dev (item_if i) → AreHeldOf s dev b.carried all → AreHeldOf s dev
    (story_with_carried (record b { link = Some l }) (carried_after_message_if (carried_if b (item_if i)) m)).carried
    (message_if all (process_in i) m)
message_held s dev b l m all None mine h = h
message_held s dev b l m all (Some (own.Command n)) mine h =
    let id : ProcId = record { command = n; sense = false } in
    held_on s dev b.carried all id _ _ (message_id (carried_of b.carried id) m ∙ carried_id b.carried id) mine
    (held_message _ _ m (h.held id mine)) h
message_held s dev b l m all (Some (own.Sense n)) mine h =
    let id : ProcId = record { command = n; sense = true } in
    held_on s dev b.carried all id _ _ (message_id (carried_of b.carried id) m ∙ carried_id b.carried id) mine
    (held_message _ _ m (h.held id mine)) h
message_held s dev b l m all (Some (own.Abort n)) mine h = h

byte_held : (s : ScenarioValue) (dev : ℕ) (b : Story) (d : RowReading) (all : List HeldPair) (i : Option OwnItem)
    → IsItemIf s dev (item_if i) → AreHeldOf s dev b.carried all
    → AreHeldOf s dev (story_with_carried b (carried_after_byte_if (carried_if b (item_if i)) d)).carried
    (byte_if all (process_in i) d.change.before (d.change.after.data_bits % 256))
byte_held s dev b d all None mine h = h
byte_held s dev b d all (Some (own.Command n)) mine h =
    let id : ProcId = record { command = n; sense = false } in
    held_on s dev b.carried all id _ _ (byte_id (carried_of b.carried id) d.change ∙ carried_id b.carried id) mine
    (held_byte _ _ d.change.before (d.change.after.data_bits % 256) (h.held id mine)) h
byte_held s dev b d all (Some (own.Sense n)) mine h =
    let id : ProcId = record { command = n; sense = true } in
    held_on s dev b.carried all id _ _ (byte_id (carried_of b.carried id) d.change ∙ carried_id b.carried id) mine
    (held_byte _ _ d.change.before (d.change.after.data_bits % 256) (h.held id mine)) h
byte_held s dev b d all (Some (own.Abort n)) mine h = h

undone_held :
    (s : ScenarioValue) (dev : ℕ) (b : Story) (all : List HeldPair) (k : Option CarriedBytes) (u : Option Undo)
    → IsUndoIf k u → IsCarriedOf s dev k → AreHeldOf s dev b.carried all
    → AreHeldOf s dev (story_with_carried b k).carried (undone all u)
undone_held s dev b all None None z mine h = h
undone_held s dev b all None (Some u) z mine h = absurd z
undone_held s dev b all (Some k) None z mine h = absurd z
undone_held s dev b all (Some k) (Some u) z mine h = held_on s dev b.carried all u.id k u.held z.id_is
    ((λ i. is_of_host (command_at s.commands (sym z.id_is i).command) dev) ∙ mine) z.held_is h

undo_held : (s : ScenarioValue) (dev : ℕ) (b : Story) (all : List HeldPair) (i : Option OwnItem)
    → IsItemIf s dev (item_if i) → AreHeldOf s dev b.carried all
    → IsUndoIf (carried_if b (item_if i)) (undo_of all (process_in i))
undo_held s dev b all None mine h = tt
undo_held s dev b all (Some (own.Command n)) mine h =
    let id : ProcId = record { command = n; sense = false } in
    record { id_is = carried_id b.carried id; held_is = h.held id mine }
undo_held s dev b all (Some (own.Sense n)) mine h =
    let id : ProcId = record { command = n; sense = true } in
    record { id_is = carried_id b.carried id; held_is = h.held id mine }
undo_held s dev b all (Some (own.Abort n)) mine h = tt

-- What a fault strikes is not held.
pub fault_held : (s : ScenarioValue) (dev : ℕ) (b : Story) (l : Link) (kind : Kind) (all : List HeldPair)
    → AreHeldOf s dev b.carried all → AreHeldOf s dev (story_after_fault b l kind).carried all
fault_held s dev b l (Drives lines) all h = h
fault_held s dev b l (Fault bit) all h = go l.item b.bus_state.crossed
  where
    go : (item : Option Item) (c : Option Change)
        → AreHeldOf s dev (story_with_carried b (carried_after_fault_if (carried_if b item) c)).carried all
    go None c = h
    go (Some (abort n)) c = h
    go (Some (process id)) None =
        held_stays s dev b.carried all id (carried_of b.carried id) (carried_id b.carried id) (λ v x. x) h
    go (Some (process id)) (Some c) = held_stays s dev b.carried all id (carried_after_fault
        (carried_of b.carried id) c.before) (fault_id (carried_of b.carried id) c ∙ carried_id b.carried id)
        (λ v x. held_fault (carried_of b.carried id) v c.before x) h

-- ---- the last message

last_out_is : (m : MsgOut) (l : Link) (o : OwnLink) → last_of o.before ≡ l.before
    → last_of (last_after_out m o) ≡ last_out m l
last_out_is to_target.Abort l o e = refl
last_out_is to_target.AbortTag l o e = refl
last_out_is to_target.ClearQueue l o e = refl
last_out_is to_target.DeviceReset l o e = refl
last_out_is to_target.ParityError l o e = e
last_out_is (to_target.Identify disc lun) l o e = refl
last_out_is (to_target.SimpleTag n) l o e = refl
last_out_is (to_target.HeadTag n) l o e = refl
last_out_is (to_target.OrderedTag n) l o e = refl
last_out_is (to_target.Sdtr a) l o e = refl
last_out_is to_target.DetectedError l o e = refl
last_out_is to_target.Reject l o e = refl
last_out_is to_target.Nop l o e = refl

last_in_is : (m : MsgIn) → last_of (last_after_in m) ≡ last_in m
last_in_is to_initiator.CommandComplete = refl
last_in_is to_initiator.SavePointer = refl
last_in_is to_initiator.RestorePointers = refl
last_in_is to_initiator.Disconnect = refl
last_in_is (to_initiator.Identify lun) = refl
last_in_is (to_initiator.SimpleTag n) = refl
last_in_is (to_initiator.Sdtr a) = refl
last_in_is to_initiator.Reject = refl

-- ---- in a connection of its own

-- What is held after the story goes on to another.
pub record IsGoneOn (s : ScenarioValue) (dev : ℕ) (b : Story) (v : TransfersValue) : Type 0 where
  pub held : AreHeldOf s dev b.carried v.held
  pub link : IsLinkIf dev b.link v.link

pub linked : (dev : ℕ) (x : Option Link) (l : Link) (o : OwnLink) → x ≡ Some l → IsLinkOf dev l o
    → IsLinkIf dev x (Some o)
linked dev x l o e h = subst (λ (y : Option Link). IsLinkIf dev y (Some o)) (sym e) h

out_goes_on : (s : ScenarioValue) (dev : ℕ) (b : Story) (v : TransfersValue) (l : Link) (o : OwnLink) (m : MsgOut)
    → IsOwned s dev l → IsLinkOf dev l o → AreHeldOf s dev b.carried v.held
    → IsGoneOn s dev (story_after_out b l (Some m)) (transfers_after_out m o v)
out_goes_on s dev b v l o m mine x h = record {
  held = go (is_parity_error m);
  link = linked dev _ _ _ (out_link b l m) (record {
    initiator_is = x.initiator_is;
    target_is = x.target_is;
    item_is = x.item_is;
    unit_is = x.unit_is;
    last_is = last_out_is m l o x.before_is;
    before_is = x.before_is;
    undo_is = x.undo_is;
  });
}
  where
    go : (q : Bool) → AreHeldOf s dev (story_with_carried (record b {
      link = Some (record l { last = last_out m l });
    }) (if q then l.undo else None)).carried (if q then undone v.held o.undo else v.held)
    go true = undone_held s dev (record b { link = Some (record l { last = last_out m l }) }) v.held l.undo o.undo
        x.undo_is mine.undo h
    go false = h

name_goes_on :
    (s : ScenarioValue) (dev : ℕ) (b : Story) (v : TransfersValue) (l next : Link) (o p : OwnLink) (m : MsgIn)
    → IsOwned s dev l → IsNamed s dev next → IsLinkOf dev l o → IsNext dev next p → AreHeldOf s dev b.carried v.held
    → IsGoneOn s dev (story_after_name s b l next m) (transfers_after_name m o p v)
name_goes_on s dev b v l next o p m mine named x y h = record {
  held = subst (λ (q : Bool). AreHeldOf s dev (story_after_name s b l next m).carried
      (message_if (if q then restored_if v.held (process_in p.item) else v.held) (process_in p.item) m))
      (none_item o.item l.item x.item_is) (go (is_none l.item));
  link = linked dev _ _ _ (name_link s b l next m) (record {
    initiator_is = y.initiator;
    target_is = y.target;
    item_is = y.item;
    unit_is = y.unit;
    last_is = last_in_is m;
    before_is = x.last_is;
    undo_is = subst (λ (z : Option Item). IsUndoIf (carried_if b z) (undo_of v.held (process_in o.item))) x.item_is
        (undo_held s dev b v.held o.item (subst (λ (z : Option Item). IsItemIf s dev z) (sym x.item_is) mine.item) h);
  });
}
  where
    none_item : (i : Option OwnItem) (item : Option Item) → item_if i ≡ item → is_none item ≡ is_none i
    none_item None item e = (λ j. is_none (sym e j))
    none_item (Some i) item e = (λ j. is_none (sym e j))

    said : (c : Story) (all : List HeldPair) → AreHeldOf s dev c.carried all
        → AreHeldOf s dev (story_after_message s c (record next {
          last = last_in m;
          before = l.last;
          undo = carried_if b l.item;
        }) m).carried (message_if all (process_in p.item) m)
    said c all k = subst (λ (z : Option Item). AreHeldOf s dev (story_with_carried (record c {
      link = Some (record next { last = last_in m; before = l.last; undo = carried_if b l.item });
    }) (carried_after_message_if (carried_if c z) m)).carried (message_if all (process_in p.item) m)) y.item
        (message_held s dev c (record next { last = last_in m; before = l.last; undo = carried_if b l.item }) m all
        p.item (subst (λ (z : Option Item). IsItemIf s dev z) (sym y.item) named.item) k)

    go : (q : Bool) → AreHeldOf s dev (story_after_message s (if q then story_with_restored b next.item else b)
        (record next { last = last_in m; before = l.last; undo = carried_if b l.item }) m).carried
        (message_if (if q then restored_if v.held (process_in p.item) else v.held) (process_in p.item) m)
    go true = said (story_with_restored b next.item) (restored_if v.held (process_in p.item))
        (subst (λ (z : Option Item). AreHeldOf s dev (story_with_restored b z).carried
        (restored_if v.held (process_in p.item))) y.item
        (restored_held s dev b v.held p.item (subst (λ (z : Option Item). IsItemIf s dev z) (sym y.item) named.item) h))
    go false = said b v.held h

byte_goes_on : (s : ScenarioValue) (dev : ℕ) (b : Story) (v : TransfersValue) (l : Link) (o : OwnLink) (d : RowReading)
    → b.link ≡ Some l → v.link ≡ Some o → IsOwned s dev l → IsLinkOf dev l o → AreHeldOf s dev b.carried v.held
    → IsGoneOn s dev (story_after_byte b l d) (transfers_after_byte d.change o v)
byte_goes_on s dev b v l o d at stands mine x h = go d.change.before.msg
  where
    carried_link : (b : Story) (k : Option CarriedBytes) → (story_with_carried b k).link ≡ b.link
    carried_link b None = refl
    carried_link b (Some k) = refl

    same : (y : Option Link) → y ≡ Some l → IsLinkIf dev y v.link
    same y e = subst (λ (z : Option OwnLink). IsLinkIf dev y z) (sym stands) (linked dev y l o e x)

    go : (q : Bool) → IsGoneOn s dev
        (if q then b else story_with_carried b (carried_after_byte_if (carried_if b l.item) d)) (if q then v
        else record v { held = byte_if v.held (process_in o.item) d.change.before (d.change.after.data_bits % 256) })
    go true = record { held = h; link = same b.link at }
    go false = record {
      held = subst (λ (z : Option Item). AreHeldOf s dev
          (story_with_carried b (carried_after_byte_if (carried_if b z) d)).carried
          (byte_if v.held (process_in o.item) d.change.before (d.change.after.data_bits % 256))) x.item_is (byte_held s
          dev b d v.held o.item (subst (λ (z : Option Item). IsItemIf s dev z) (sym x.item_is) mine.item) h);
      link = same _ (carried_link b (carried_after_byte_if (carried_if b l.item) d) ∙ at);
    }

crossing_goes_on : (s : ScenarioValue) (dev : ℕ) (b : Story) (v : TransfersValue) (mines : List Mine)
    (l : Link) (o : OwnLink) (d : RowReading) → mines ≡ mines_of b.sent dev s.commands → b.link ≡ Some l
    → v.link ≡ Some o → IsOwned s dev l → IsLinkOf dev l o → AreHeldOf s dev b.carried v.held
    → IsGoneOn s dev (story_after_crossing s b l d) (transfers_after_crossing mines d.change d.out d.into o v)
crossing_goes_on s dev b v mines l o d book at stands mine x h = go d.out d.into
  where
    go : (out : Option MsgOut) (into : Option MsgIn)
        → IsGoneOn s dev (if is_some out then story_after_out b l out
        else if is_some into then story_after_in s b l into else story_after_byte b l d)
        (transfers_after_crossing mines d.change out into o v)
    go (Some m) into = out_goes_on s dev b v l o m mine x h
    go None (Some m) = name_goes_on s dev b v l (link_after_name b.sent s.commands l m) o
        (link_with_name mines o m) m mine (named s b.sent dev l m mine) x (next_named s b.sent dev mines l o m book x) h
    go None None = byte_goes_on s dev b v l o d at stands mine x h

pub connected_goes_on : (s : ScenarioValue) (dev : ℕ) (b : Story) (v : TransfersValue) (mines : List Mine)
    (h : Hearing) (d : RowReading) (row : Row) → mines ≡ mines_of b.sent dev s.commands → h.crosses ≡ d.crosses
    → h.change ≡ d.change → h.out ≡ d.out → h.into ≡ d.into → (l : Option Link) (o : Option OwnLink)
    → b.link ≡ l → v.link ≡ o → IsOwnedIf s dev l → IsLinkIf dev l o → AreHeldOf s dev b.carried v.held
    → IsGoneOn s dev (story_in_connection s b l d row) (transfers_in_link mines h o v)
connected_goes_on s dev b v mines h d row book crosses change out into None None at stands mine x k = record {
  held = k;
  link = subst (λ (y : Option Link). IsLinkIf dev y v.link) (sym at)
      (subst (λ (z : Option OwnLink). IsLinkIf dev None z) (sym stands) tt);
}
connected_goes_on s dev b v mines h d row book crosses change out into None (Some o) at stands mine x k = absurd x
connected_goes_on s dev b v mines h d row book crosses change out into (Some l) None at stands mine x k = absurd x
connected_goes_on s dev b v mines h d row book crosses change out into (Some l) (Some o) at stands mine x k =
    subst (λ (w : TransfersValue). IsGoneOn s dev (story_in_connection s b (Some l) d row) w)
    (λ i. if sym crosses i then transfers_after_crossing mines (sym change i) (sym out i) (sym into i) o v else v)
    (go d.crosses)
  where
    go : (q : Bool) → IsGoneOn s dev (if q then story_after_crossing s b l d else story_after_fault b l row.kind)
        (if q then transfers_after_crossing mines d.change d.out d.into o v else v)
    go true = crossing_goes_on s dev b v mines l o d book at stands mine x k
    go false = record {
      held = fault_held s dev b l row.kind v.held k;
      link = subst (λ (z : Option OwnLink). IsLinkIf dev (story_after_fault b l row.kind).link z) (sym stands)
          (linked dev _ l o (fault_link b l row.kind ∙ at) x);
    }
