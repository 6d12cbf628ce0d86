-- What an initiator holds of its own connection and of its own processes goes on row by row.
use Rattle.std.proofs.Common.{ℕ, ◌≡◌, ◌≢◌, ◌+◌, Bool, true, false, List, [], ◌∷◌, ◌∙◌, refl, sym, ap, subst, Option}
use Rattle.std.proofs.Common.{Some, None, length}
use Rattle.std.specs.Prelude.{if◌then◌else◌, not, ◌&&◌, ◌==◌, is_some, is_none}
use Rattle.std.proofs.lemmas.Bool.{eqb-true, eqb-false}
use Rattle.bus_base.specs.declared.ProcId.{ProcId}
use Rattle.bus_base.specs.declared.Event.{Event}
use Rattle.bus_base.specs.declared.Event.TheVariants as events
use Rattle.bus_trace.specs.declared.Row.{Row}
use Rattle.bus_trace.specs.declared.changes.Change.{Change}
use Rattle.bus_trace.specs.declared.connection.Connection.{Connection}
use Rattle.bus_trace.specs.declared.selection.Call.{Call}
use Rattle.bus_trace.specs.declared.selection.Calling.{Calling}
use Rattle.bus_trace.specs.Changes.{rises, falls}
use Rattle.bus_trace.specs.Phases.{is_message_in}
use Rattle.bus_trace.specs.Terms.{connection}
use Rattle.msg_grammar.specs.declared.message.MsgOut.{MsgOut}
use Rattle.msg_grammar.specs.declared.message.MsgIn.{MsgIn}
use Rattle.cdb_codec.specs.declared.status.TheConstants.{CHECK_CONDITION}
use Rattle.scenario.specs.Value.{ScenarioValue}
use Rattle.due_model.specs.array_model.specs.Processes.{command_at}
use Rattle.story_model.specs.BusState.{RowReading, row_reading}
use Rattle.story_model.specs.Items.{Item, process, abort, is_of_host}
use Rattle.story_model.specs.Links.{Link, link_of, last_out, last_in, link_after_name}
use Rattle.story_model.specs.CarriedBytes.{CarriedBytes, carried_of, with_restored_pointers}
use Rattle.story_model.specs.Story.{Story, by_abort, by_reset, is_aborted, is_sense_stopped, marked_refused}
use Rattle.story_model.specs.Story.{marked_shown}
use Rattle.story_model.specs.Story.{story_after_event, story_after_events}
use Rattle.story_model.specs.HistoryEvents.{carried_if, is_complete, is_completion, end_events}
use Rattle.story_model.specs.TraceHistory.{aim_of, is_parity_error, carried_after_message_if, carried_after_byte_if}
use Rattle.story_model.specs.TraceHistory.{story_with_aim, story_after_calling_by, story_after_calling}
use Rattle.story_model.specs.TraceHistory.{story_on_free_bus}
use Rattle.story_model.specs.TraceHistory.{story_with_restored, story_with_sent, story_after_connection}
use Rattle.story_model.specs.TraceHistory.{story_with_carried, story_after_out, story_after_message, story_after_name}
use Rattle.story_model.specs.TraceHistory.{story_after_in, story_after_byte, story_after_fault, story_after_crossing}
use Rattle.story_model.specs.TraceHistory.{story_in_connection, story_on_bus, story_by_change}
use Rattle.due_model.specs.dialogue_model.specs.declared.exchange.Hearing.{Hearing}
use Rattle.due_model.specs.dialogue_model.specs.Hearing.{hearing}
use Rattle.due_model.specs.dialogue_model.specs.Events.{event_if}
use Rattle.due_model.specs.RunState.{RunState, item_of}
use Rattle.due_model.specs.RunSteps.{run_state, events_of_row}
use Rattle.due_model.specs.Sights.{hearing_of}
use Rattle.due_model.specs.Plain.{IsPlain, AreOfDevices}
use Rattle.due_model.specs.Telling.{id_of, initiator_events}
use Rattle.initiator_books.specs.declared.mine.Mine.{Mine}
use Rattle.initiator_books.specs.declared.mine.OwnItem.{OwnItem}
use Rattle.initiator_books.specs.declared.mine.OwnItem.TheVariants as own
use Rattle.initiator_books.specs.declared.held.HeldPair.{HeldPair}
use Rattle.initiator_books.specs.declared.own_link.LastMessage.{LastMessage}
use Rattle.initiator_books.specs.declared.own_link.LastMessage.TheVariants as latest
use Rattle.initiator_books.specs.declared.own_link.OwnLink.{OwnLink}
use Rattle.initiator_books.specs.Books.{BookValue, my_book, item_if}
use Rattle.initiator_books.specs.Mines.{mines_of}
use Rattle.initiator_books.specs.Wishes.{IsItemIf, AreAims}
use Rattle.initiator.specs.States.{IsOwnConnection}
use Rattle.initiator_books.specs.HeldPointers.{restored_if, AreHeldOf}
use Rattle.initiator_books.specs.OwnLinks.{process_in, new_link, last_of, IsLinkIf, own_link}
use Rattle.initiator.specs.Transfers.{TransfersValue, transfers_begun, transfers_in_link, transfers_after_crossing}
use Rattle.initiator.specs.Transfers.{transfers_on_bus, transfers_after, process_of_link, active_at, is_last_complete}
use Rattle.initiator.specs.Transfers.{takes_complete, end_of, completion_in, IsTransfersOf, no_transfers, active_of}
use Rattle.initiator_books.proofs.Foreign.{not_both}
use Rattle.story_model.proofs.CarriedLists.{carried_id}
use Rattle.initiator_books.proofs.HeldSteps.{held_apart, held_stays, held_starts}
use Rattle.initiator.proofs.OwnedLinks.{IsCarriedOf, IsOwned, IsOwnedIf, IsOwnedOn, carried_own, named, begun_link}
use Rattle.initiator.proofs.OwnedLinks.{aim_own, same_connection, ends_left, end_left, links_are}
use Rattle.initiator.proofs.TransferSteps.{IsGoneOn, restored_held, byte_id, fault_held, linked, connected_goes_on}
use Rattle.initiator_books.proofs.WishRows.{aims_are}
use Rattle.story_model.proofs.StorySteps.{events_link, sent_carried, calling_carried, free_carried, message_id}

-- ---- a connection of its own begins

begins : (s : ScenarioValue) (dev : ℕ) (b : Story) (v : TransfersValue) (aim : Option OwnItem) (n : Connection)
    → AreAims s b.aims → n.initiator ≡ dev → item_if aim ≡ aim_of b.aims dev → AreHeldOf s dev b.carried v.held
    → IsGoneOn s dev (story_after_connection b n) (transfers_begun aim n v)
begins s dev b v aim n a e is h = go n.reselected
  where
    of_it : item_if aim ≡ aim_of b.aims n.initiator
    of_it = is ∙ (λ i. aim_of b.aims (sym e i))

    mine : IsItemIf s dev (item_if aim)
    mine = subst (λ (z : Option Item). IsItemIf s dev z) (sym is) (aim_own s b.aims dev a)

    go : (r : Bool) → IsGoneOn s dev (if r then record b { link = Some (link_of n None) } else story_with_restored
        (story_with_sent (record b { link = Some (link_of n (aim_of b.aims n.initiator)) }) (aim_of b.aims n.initiator))
        (aim_of b.aims n.initiator)) (if r then record v { link = Some (new_link n.target None) }
        else record v { held = restored_if v.held (process_in aim); link = Some (new_link n.target aim) })
    go true = record {
      held = h;
      link = record {
        initiator_is = e;
        target_is = refl;
        item_is = refl;
        unit_is = refl;
        last_is = refl;
        before_is = refl;
        undo_is = tt;
      };
    }
    go false =
        let l : Link = link_of n (aim_of b.aims n.initiator) in
        let c : Story = story_with_sent (record b { link = Some l }) (aim_of b.aims n.initiator) in
        let k : AreHeldOf s dev c.carried v.held = subst (λ (z : List CarriedBytes). AreHeldOf s dev z v.held)
        (sym (sent_carried (record b { link = Some l }) (aim_of b.aims n.initiator))) h in
        record {
          held = subst (λ (z : Option Item). AreHeldOf s dev (story_with_restored c z).carried
              (restored_if v.held (process_in aim))) of_it (restored_held s dev c v.held aim mine k);
          link = linked dev _ _ _ (begun_link b n l (aim_of b.aims n.initiator)) (record {
            initiator_is = e;
            target_is = refl;
            item_is = of_it;
            unit_is = refl;
            last_is = refl;
            before_is = refl;
            undo_is = tt;
          });
        }

-- ---- connections of others

apart_restored : (s : ScenarioValue) (d dev : ℕ) (b : Story) (all : List HeldPair) (item : Option Item) → d ≢ dev
    → IsItemIf s d item → AreHeldOf s dev b.carried all → AreHeldOf s dev (story_with_restored b item).carried all
apart_restored s d dev b all None ne own h = h
apart_restored s d dev b all (Some (abort n)) ne own h = h
apart_restored s d dev b all (Some (process id)) ne own h = held_apart s dev b.carried all (with_restored_pointers
    (carried_of b.carried id)) ((λ i. is_of_host (command_at s.commands (carried_id b.carried id i).command) dev)
    ∙ not_both (command_at s.commands id.command) d dev ne own) h

apart_carried : (s : ScenarioValue) (d dev : ℕ) (b : Story) (all : List HeldPair) (k : Option CarriedBytes) → d ≢ dev
    → IsCarriedOf s d k → AreHeldOf s dev b.carried all → AreHeldOf s dev (story_with_carried b k).carried all
apart_carried s d dev b all None ne own h = h
apart_carried s d dev b all (Some k) ne own h =
    held_apart s dev b.carried all k (not_both (command_at s.commands k.id.command) d dev ne own) h

message_own : (s : ScenarioValue) (d : ℕ) (k : Option CarriedBytes) (m : MsgIn) → IsCarriedOf s d k
    → IsCarriedOf s d (carried_after_message_if k m)
message_own s d None m own = tt
message_own s d (Some k) m own = (λ i. is_of_host (command_at s.commands (message_id k m i).command) d) ∙ own

byte_own : (s : ScenarioValue) (d : ℕ) (k : Option CarriedBytes) (r : RowReading) → IsCarriedOf s d k
    → IsCarriedOf s d (carried_after_byte_if k r)
byte_own s d None r own = tt
byte_own s d (Some k) r own = (λ i. is_of_host (command_at s.commands (byte_id k r.change i).command) d) ∙ own

apart_out : (s : ScenarioValue) (d dev : ℕ) (b : Story) (all : List HeldPair) (l : Link) (m : MsgOut) → d ≢ dev
    → IsOwned s d l → AreHeldOf s dev b.carried all → AreHeldOf s dev (story_after_out b l (Some m)).carried all
apart_out s d dev b all l m ne own h = go (is_parity_error m)
  where
    go : (q : Bool) → AreHeldOf s dev (story_with_carried (record b {
      link = Some (record l { last = last_out m l });
    }) (if q then l.undo else None)).carried all
    go true =
        apart_carried s d dev (record b { link = Some (record l { last = last_out m l }) }) all l.undo ne own.undo h
    go false = h

apart_in : (s : ScenarioValue) (d dev : ℕ) (b : Story) (all : List HeldPair) (l next : Link) (m : MsgIn)
    → d ≢ dev → IsItemIf s d next.item → AreHeldOf s dev b.carried all
    → AreHeldOf s dev (story_after_name s b l next m).carried all
apart_in s d dev b all l next m ne own h = go (is_none l.item)
  where
    said : (c : Story) → AreHeldOf s dev c.carried all → AreHeldOf s dev (story_after_message s c
        (record next { last = last_in m; before = l.last; undo = carried_if b l.item }) m).carried all
    said c k = apart_carried s d dev (record c {
      link = Some (record next { last = last_in m; before = l.last; undo = carried_if b l.item });
    }) all (carried_after_message_if (carried_if c next.item) m) ne
        (message_own s d (carried_if c next.item) m (carried_own s d c next.item own)) k

    go : (q : Bool) → AreHeldOf s dev (story_after_message s (if q then story_with_restored b next.item else b)
        (record next { last = last_in m; before = l.last; undo = carried_if b l.item }) m).carried all
    go true = said (story_with_restored b next.item) (apart_restored s d dev b all next.item ne own h)
    go false = said b h

apart_byte : (s : ScenarioValue) (d dev : ℕ) (b : Story) (all : List HeldPair) (l : Link) (r : RowReading) → d ≢ dev
    → IsOwned s d l → AreHeldOf s dev b.carried all → AreHeldOf s dev (story_after_byte b l r).carried all
apart_byte s d dev b all l r ne own h = go r.change.before.msg
  where
    go : (q : Bool) → AreHeldOf s dev
        (if q then b else story_with_carried b (carried_after_byte_if (carried_if b l.item) r)).carried all
    go true = h
    go false = apart_carried s d dev b all (carried_after_byte_if (carried_if b l.item) r) ne
        (byte_own s d (carried_if b l.item) r (carried_own s d b l.item own.item)) h

apart_connected :
    (s : ScenarioValue) (d dev : ℕ) (b : Story) (all : List HeldPair) (l : Option Link) (r : RowReading) (row : Row)
    → d ≢ dev → IsOwnedIf s d l → AreHeldOf s dev b.carried all
    → AreHeldOf s dev (story_in_connection s b l r row).carried all
apart_connected s d dev b all None r row ne own h = h
apart_connected s d dev b all (Some l) r row ne own h = go r.crosses
  where
    crossing : (out : Option MsgOut) (into : Option MsgIn)
        → AreHeldOf s dev (if is_some out then story_after_out b l out
        else if is_some into then story_after_in s b l into else story_after_byte b l r).carried all
    crossing (Some m) into = apart_out s d dev b all l m ne own h
    crossing None (Some m) =
        let x = named s b.sent d l m own in
        apart_in s d dev b all l (link_after_name b.sent s.commands l m) m ne x.item h
    crossing None None = apart_byte s d dev b all l r ne own h

    go : (q : Bool)
        → AreHeldOf s dev (if q then story_after_crossing s b l r else story_after_fault b l row.kind).carried all
    go true = crossing r.out r.into
    go false = fault_held s dev b l row.kind all h

apart_begins : (s : ScenarioValue) (dev : ℕ) (b : Story) (all : List HeldPair) (n : Connection) → AreAims s b.aims
    → n.initiator ≢ dev → AreHeldOf s dev b.carried all → AreHeldOf s dev (story_after_connection b n).carried all
apart_begins s dev b all n a ne h = go n.reselected
  where
    go : (r : Bool) → AreHeldOf s dev (if r then record b { link = Some (link_of n None) } else story_with_restored
        (story_with_sent (record b { link = Some (link_of n (aim_of b.aims n.initiator)) }) (aim_of b.aims n.initiator))
        (aim_of b.aims n.initiator)).carried all
    go true = h
    go false =
        let c : Story = record b { link = Some (link_of n (aim_of b.aims n.initiator)) } in
        apart_restored s n.initiator dev (story_with_sent c (aim_of b.aims n.initiator)) all
        (aim_of b.aims n.initiator) ne (aim_own s b.aims n.initiator a)
        (subst (λ (z : List CarriedBytes). AreHeldOf s dev z all) (sym (sent_carried c (aim_of b.aims n.initiator))) h)

-- ---- events

event_held : (s : ScenarioValue) (dev : ℕ) (b : Story) (all : List HeldPair) (e : Event) → AreHeldOf s dev b.carried all
    → AreHeldOf s dev (story_after_event s b e).carried all
event_held s dev b all (events.Accept id) h = h
event_held s dev b all (events.Refuse id) h = held_stays s dev b.carried all id
    (marked_refused (carried_of b.carried id)) (carried_id b.carried id) (λ v x. record {
      pointers_are = x.pointers_are;
      status_is = x.status_is;
      active_within = x.active_within;
      saved_within = x.saved_within;
    }) h
event_held s dev b all (events.Run id) h = held_stays s dev b.carried all id (marked_shown (carried_of b.carried id))
    (carried_id b.carried id) (λ v x. record {
      pointers_are = x.pointers_are;
      status_is = x.status_is;
      active_within = x.active_within;
      saved_within = x.saved_within;
    }) h
event_held s dev b all (events.Fail id code) h = held_stays s dev b.carried all id
    (marked_shown (carried_of b.carried id)) (carried_id b.carried id) (λ v x. record {
      pointers_are = x.pointers_are;
      status_is = x.status_is;
      active_within = x.active_within;
      saved_within = x.saved_within;
    }) h
event_held s dev b all (events.Lost id) h = h
event_held s dev b all (events.End id status) h = subst (λ (z : List CarriedBytes). AreHeldOf s dev z all)
    (sym (end_left b id status (not id.sense && status == CHECK_CONDITION)).carried) h
event_held s dev b all (events.Aborted host target unit what) h =
    subst (λ (z : List CarriedBytes). AreHeldOf s dev z all) (sym (ends_left (is_aborted host target unit what)
    (is_sense_stopped host target unit what) by_abort 1 s.commands b).carried) h
event_held s dev b all (events.Reset d) h = subst (λ (z : List CarriedBytes). AreHeldOf s dev z all)
    (sym (ends_left (λ c. true) (λ c. true) by_reset 1 s.commands b).carried) h

events_held : (s : ScenarioValue) (dev : ℕ) (b : Story) (all : List HeldPair) (shown : List Event)
    → AreHeldOf s dev b.carried all → AreHeldOf s dev (story_after_events s b shown).carried all
events_held s dev b all [] h = h
events_held s dev b all (e ∷ shown) h =
    event_held s dev (story_after_events s b shown) all e (events_held s dev b all shown h)

-- ---- a row

record IsHeldOn (s : ScenarioValue) (dev : ℕ) (n : Option Connection) (b : Story) (v : TransfersValue) : Type 0 where
  held : AreHeldOf s dev b.carried v.held
  link : IsLinkIf dev (own_link dev n b.link) v.link

no_link : (dev : ℕ) (n : Option Connection) → IsLinkIf dev (own_link dev n None) None
no_link dev None = tt
no_link dev (Some n) = go (n.initiator == dev)
  where
    go : (q : Bool) → IsLinkIf dev (if q then None else None) None
    go true = tt
    go false = tt

change_held : (s : ScenarioValue) (dev : ℕ) (k : RunState) (row : Row) (v : TransfersValue)
    (mines : List Mine) (aim : Option OwnItem) → v.dev ≡ dev → mines ≡ mines_of k.story.sent dev s.commands
    → item_if aim ≡ aim_of k.story.aims dev → AreAims s k.story.aims
    → IsOwnedOn s k.story.bus_state.connection k.story.link → IsHeldOn s dev k.story.bus_state.connection k.story v
    → IsHeldOn s dev (row_reading k.story.bus_state row).next
    (story_by_change s k.story (row_reading k.story.bus_state row) row)
    (transfers_after mines aim (hearing_of k row (row_reading k.story.bus_state row)) k.story.bus_state.connection
    (row_reading k.story.bus_state row).next v)
change_held s dev k row v mines aim same book for_it a owned h = go (row_reading k.story.bus_state row).change.after.rst
  where
    begun : (n : Connection) (q : Bool) → (n.initiator == dev) ≡ q → IsLinkIf dev None v.link
        → IsHeldOn s dev (Some n) (story_after_connection k.story n) (if q then transfers_begun aim n v else v)
    begun n true e none =
        let x = begins s dev k.story v aim n a (eqb-true n.initiator dev e) for_it h.held in
        record {
          held = x.held;
          link = subst (λ (z : Bool). IsLinkIf dev (if z then (story_after_connection k.story n).link else None)
              (transfers_begun aim n v).link) (sym e) x.link;
        }
    begun n false e none = record {
      held = apart_begins s dev k.story v.held n a (eqb-false n.initiator dev e) h.held;
      link = subst (λ (z : Bool). IsLinkIf dev (if z then (story_after_connection k.story n).link else None) v.link)
          (sym e) none;
    }

    goes_on : (m n : Connection) → m ≡ n → IsOwnedIf s m.initiator k.story.link
        → IsLinkIf dev (if m.initiator == dev then k.story.link else None) v.link
        → (q : Bool) → (n.initiator == dev) ≡ q
        → IsHeldOn s dev (Some n) (story_in_connection s k.story k.story.link (row_reading k.story.bus_state row) row)
        (if q then transfers_in_link mines (hearing_of k row (row_reading k.story.bus_state row)) v.link v else v)
    goes_on m n one own old true e =
        let ours : (m.initiator == dev) ≡ true = (λ i. (one i).initiator == dev) ∙ e in
        let x = connected_goes_on s dev k.story v mines (hearing_of k row (row_reading k.story.bus_state row))
        (row_reading k.story.bus_state row) row book refl refl refl refl k.story.link v.link refl refl
        (subst (λ (z : ℕ). IsOwnedIf s z k.story.link) (eqb-true m.initiator dev ours) own)
        (subst (λ (z : Bool). IsLinkIf dev (if z then k.story.link else None) v.link) ours old) h.held in
        record {
          held = x.held;
          link = subst (λ (z : Bool). IsLinkIf dev
              (if z then (story_in_connection s k.story k.story.link (row_reading k.story.bus_state row) row).link
              else None) (transfers_in_link mines (hearing_of k row (row_reading k.story.bus_state row)) v.link v).link)
              (sym e) x.link;
        }
    goes_on m n one own old false e =
        let theirs : (m.initiator == dev) ≡ false = (λ i. (one i).initiator == dev) ∙ e in
        record {
          held = apart_connected s m.initiator dev k.story v.held k.story.link (row_reading k.story.bus_state row) row
              (eqb-false m.initiator dev theirs) own h.held;
          link = subst (λ (z : Bool). IsLinkIf dev
              (if z then (story_in_connection s k.story k.story.link (row_reading k.story.bus_state row) row).link
              else None) v.link) (sym e)
              (subst (λ (z : Bool). IsLinkIf dev (if z then k.story.link else None) v.link) theirs old);
        }

    at_dev : (n : Connection) → (n.initiator == dev) ≡ (n.initiator == v.dev)
    at_dev n = λ i. n.initiator == sym same i

    on_bus : (m n : Option Connection) → k.story.bus_state.connection ≡ m → (row_reading k.story.bus_state row).next ≡ n
        → IsOwnedOn s m k.story.link → IsLinkIf dev (own_link dev m k.story.link) v.link
        → IsHeldOn s dev n (story_on_bus s k.story m n (row_reading k.story.bus_state row) row)
        (transfers_on_bus mines aim (hearing_of k row (row_reading k.story.bus_state row)) m n v)
    on_bus None None x y own old = record {
      held = subst (λ (z : List CarriedBytes). AreHeldOf s dev z v.held)
          (sym (free_carried s k.story (row_reading k.story.bus_state row) row)) h.held;
      link = old;
    }
    on_bus None (Some n) x y own old = begun n (n.initiator == v.dev) (at_dev n) old
    on_bus (Some m) None x y own old = record { held = h.held; link = tt }
    on_bus (Some m) (Some n) x y own old =
        goes_on m n (same_connection k.story.bus_state.connection k.story.bus_state.call
        (row_reading k.story.bus_state row).change row m n x y) own old (n.initiator == v.dev) (at_dev n)

    go : (q : Bool) → IsHeldOn s dev (row_reading k.story.bus_state row).next (if q then record k.story { link = None }
        else story_on_bus s k.story k.story.bus_state.connection (row_reading k.story.bus_state row).next
        (row_reading k.story.bus_state row) row) (if q then record v { link = None }
        else transfers_on_bus mines aim (hearing_of k row (row_reading k.story.bus_state row))
        k.story.bus_state.connection (row_reading k.story.bus_state row).next v)
    go true = record { held = h.held; link = no_link dev (row_reading k.story.bus_state row).next }
    go false = on_bus k.story.bus_state.connection (row_reading k.story.bus_state row).next refl refl owned h.link

-- ---- whose it is

crossing_dev : (mines : List Mine) (h : Hearing) (o : Option OwnLink) (v : TransfersValue)
    → (transfers_in_link mines h o v).dev ≡ v.dev
crossing_dev mines h None v = refl
crossing_dev mines h (Some o) v = go h.crosses
  where
    by_byte : (q : Bool) (held : List HeldPair) → (if q then v else record v { held = held }).dev ≡ v.dev
    by_byte true held = refl
    by_byte false held = refl

    by_messages : (out : Option MsgOut) (into : Option MsgIn)
        → (transfers_after_crossing mines h.change out into o v).dev ≡ v.dev
    by_messages (Some m) into = refl
    by_messages None (Some m) = refl
    by_messages None None = by_byte h.change.before.msg _

    go : (q : Bool) → (if q then transfers_after_crossing mines h.change h.out h.into o v else v).dev ≡ v.dev
    go true = by_messages h.out h.into
    go false = refl

pub transfers_dev :
    (mines : List Mine) (aim : Option OwnItem) (h : Hearing) (before after : Option Connection) (v : TransfersValue)
    → (transfers_after mines aim h before after v).dev ≡ v.dev
transfers_dev mines aim h before after v = go h.change.after.rst
  where
    begun : (n : Connection) (r q : Bool)
        → (if q then (if r then record v { link = Some (new_link n.target None) } else record v {
          held = restored_if v.held (process_in aim);
          link = Some (new_link n.target aim);
        }) else v).dev ≡ v.dev
    begun n r false = refl
    begun n true true = refl
    begun n false true = refl

    goes_on : (q : Bool) → (if q then transfers_in_link mines h v.link v else v).dev ≡ v.dev
    goes_on true = crossing_dev mines h v.link v
    goes_on false = refl

    on_bus : (m n : Option Connection) → (transfers_on_bus mines aim h m n v).dev ≡ v.dev
    on_bus None None = refl
    on_bus None (Some n) = begun n n.reselected (n.initiator == v.dev)
    on_bus (Some m) None = refl
    on_bus (Some m) (Some n) = goes_on (n.initiator == v.dev)

    go : (q : Bool) → (if q then record v { link = None } else transfers_on_bus mines aim h before after v).dev ≡ v.dev
    go true = refl
    go false = on_bus before after

-- ---- one row more

pub transfers_go_on : (s : ScenarioValue) (rows : List Row) (row : Row) (v w : TransfersValue)
    (book : BookValue) (aim : Option OwnItem) (h : Hearing) (before after : Option Connection)
    → w ≡ transfers_after book.mines aim h before after v
    → IsPlain s rows (run_state s rows) → IsPlain s (row ∷ rows) (run_state s (row ∷ rows))
    → hearing_of (run_state s rows) row (row_reading (run_state s rows).story.bus_state row) ≡ hearing rows row
    → AreOfDevices (row ∷ rows) → h ≡ hearing rows row → before ≡ connection rows → after ≡ connection (row ∷ rows)
    → book ≡ my_book s (run_state s rows).story.sent v.dev → item_if aim ≡ aim_of (run_state s rows).story.aims v.dev
    → IsTransfersOf s rows v → IsTransfersOf s (row ∷ rows) w
transfers_go_on s rows row v w book aim h before after is p q heard d told b a books for_it old =
    let k : RunState = run_state s rows in
    let r : RowReading = row_reading k.story.bus_state row in
    let c : Story = story_by_change s k.story r row in
    let x : IsHeldOn s v.dev r.next c
    (transfers_after book.mines aim (hearing_of k row r) k.story.bus_state.connection r.next v) = change_held
    s v.dev k row v book.mines aim refl (ap (λ (z : BookValue). z.mines) books) for_it (aims_are s rows d.1)
    (links_are s rows d.1) (record {
      held = old.held_are;
      link = subst (λ (z : Option Connection). IsLinkIf v.dev (own_link v.dev z k.story.link) v.link)
          (sym p.connection) old.link_is;
    }) in
    let path : transfers_after book.mines aim (hearing_of k row r) k.story.bus_state.connection r.next v ≡ w =
    (λ i. transfers_after book.mines aim ((heard ∙ sym told) i) ((p.connection ∙ sym b) i) ((q.connection ∙ sym a) i) v)
    ∙ sym is in
    let y : IsHeldOn s v.dev r.next c w = subst (λ (z : TransfersValue). IsHeldOn s v.dev r.next c z) path x in
    let same : w.dev ≡ v.dev = ap (λ (z : TransfersValue). z.dev) is ∙ transfers_dev book.mines aim h before after v in
    let held : AreHeldOf s v.dev (run_state s (row ∷ rows)).story.carried w.held = events_held s v.dev c w.held
    (events_of_row s rows row) y.held in
    let link : IsLinkIf v.dev (own_link v.dev (connection (row ∷ rows)) (run_state s (row ∷ rows)).story.link) w.link =
    subst (λ (z : Option Connection). IsLinkIf v.dev (own_link v.dev z (run_state s (row ∷ rows)).story.link) w.link)
    q.connection (subst (λ (z : Option Link). IsLinkIf v.dev (own_link v.dev r.next z) w.link)
    (sym (events_link s c (events_of_row s rows row))) y.link) in
    record {
      held_are = subst (λ (z : ℕ). AreHeldOf s z (run_state s (row ∷ rows)).story.carried w.held) (sym same) held;
      link_is = subst (λ (z : ℕ). IsLinkIf z
          (own_link z (connection (row ∷ rows)) (run_state s (row ∷ rows)).story.link) w.link) (sym same) link;
    }

pub transfers_start : (s : ScenarioValue) (dev : ℕ) (v : TransfersValue) → v ≡ no_transfers dev (length s.commands + 1)
    → IsTransfersOf s [] v
transfers_start s dev v e =
    subst (λ (z : TransfersValue). IsTransfersOf s [] z) (sym e) (record { held_are = held_starts s dev; link_is = tt })

-- ---- what it tells

own_id : (i : Option OwnItem) → process_in i ≡ id_of (item_if i)
own_id None = refl
own_id (Some (own.Command n)) = refl
own_id (Some (own.Sense n)) = refl
own_id (Some (own.Abort n)) = refl

process_in_link : (dev : ℕ) (l : Option Link) (o : Option OwnLink) → IsLinkIf dev l o
    → process_of_link o ≡ id_of (item_of l)
process_in_link dev None None x = refl
process_in_link dev None (Some o) x = absurd x
process_in_link dev (Some l) None x = absurd x
process_in_link dev (Some l) (Some o) x = own_id o.item ∙ (λ i. id_of (x.item_is i))

pub process_is : (s : ScenarioValue) (rows : List Row) (v : TransfersValue) → IsTransfersOf s rows v
    → process_of_link v.link ≡ id_of (item_of (own_link v.dev (connection rows) (run_state s rows).story.link))
process_is s rows v h =
    process_in_link v.dev (own_link v.dev (connection rows) (run_state s rows).story.link) v.link h.link_is

-- That of a connection of its own is for an item of its own.
own_owned : (s : ScenarioValue) (dev : ℕ) (n : Option Connection) (l : Option Link) → IsOwnedOn s n l
    → IsOwnedIf s dev (own_link dev n l)
own_owned s dev None l h = tt
own_owned s dev (Some n) l h = go (n.initiator == dev) refl
  where
    go : (q : Bool) → (n.initiator == dev) ≡ q → IsOwnedIf s dev (if q then l else None)
    go true e = subst (λ (z : ℕ). IsOwnedIf s z l) (eqb-true n.initiator dev e) h
    go false e = tt

pub link_owned : (s : ScenarioValue) (rows : List Row) (dev : ℕ) → IsPlain s rows (run_state s rows) → AreOfDevices rows
    → IsOwnedIf s dev (own_link dev (connection rows) (run_state s rows).story.link)
link_owned s rows dev p d = own_owned s dev (connection rows) (run_state s rows).story.link
    (subst (λ (z : Option Connection). IsOwnedOn s z (run_state s rows).story.link) p.connection (links_are s rows d))

active_item : (s : ScenarioValue) (dev : ℕ) (k : RunState) (held : List HeldPair) (i : Option OwnItem)
    → IsItemIf s dev (item_if i) → AreHeldOf s dev k.story.carried held
    → active_at held (process_in i) ≡ active_of k (id_of (item_if i))
active_item s dev k held None mine h = refl
active_item s dev k held (Some (own.Command n)) mine h =
    let x = h.held (record { command = n; sense = false }) mine in
    (λ i. (x.pointers_are i).active)
active_item s dev k held (Some (own.Sense n)) mine h =
    let x = h.held (record { command = n; sense = true }) mine in
    (λ i. (x.pointers_are i).active)
active_item s dev k held (Some (own.Abort n)) mine h = refl

active_in_link :
    (s : ScenarioValue) (dev : ℕ) (k : RunState) (held : List HeldPair) (l : Option Link) (o : Option OwnLink)
    → IsLinkIf dev l o → IsOwnedIf s dev l → AreHeldOf s dev k.story.carried held
    → active_at held (process_of_link o) ≡ active_of k (id_of (item_of l))
active_in_link s dev k held None None x own h = refl
active_in_link s dev k held None (Some o) x own h = absurd x
active_in_link s dev k held (Some l) None x own h = absurd x
active_in_link s dev k held (Some l) (Some o) x own h =
    active_item s dev k held o.item (subst (λ (z : Option Item). IsItemIf s dev z) (sym x.item_is) own.item) h
    ∙ (λ i. active_of k (id_of (x.item_is i)))

pub pointers_are : (s : ScenarioValue) (rows : List Row) (v : TransfersValue) → IsPlain s rows (run_state s rows)
    → AreOfDevices rows → IsTransfersOf s rows v → active_at v.held (process_of_link v.link)
    ≡ active_of (run_state s rows) (id_of (item_of (own_link v.dev (connection rows) (run_state s rows).story.link)))
pointers_are s rows v p d h =
    active_in_link s v.dev (run_state s rows) v.held _ v.link h.link_is (link_owned s rows v.dev p d) h.held_are

complete_is : (m : LastMessage) → is_last_complete m ≡ is_complete (last_of m)
complete_is latest.Plain = refl
complete_is latest.Complete = refl
complete_is latest.Disconnect = refl
complete_is latest.Abortive = refl

end_item : (s : ScenarioValue) (dev : ℕ) (k : RunState) (held : List HeldPair) (i : Option OwnItem)
    → IsItemIf s dev (item_if i) → AreHeldOf s dev k.story.carried held
    → event_if (end_of held (process_in i)) ≡ end_events (carried_if k.story (item_if i))
end_item s dev k held None mine h = refl
end_item s dev k held (Some (own.Command n)) mine h =
    let id : ProcId = record { command = n; sense = false } in
    let x = h.held id mine in
    (λ i. events.End (sym (carried_id k.story.carried id) i) (x.status_is i) ∷ [])
end_item s dev k held (Some (own.Sense n)) mine h =
    let id : ProcId = record { command = n; sense = true } in
    let x = h.held id mine in
    (λ i. events.End (sym (carried_id k.story.carried id) i) (x.status_is i) ∷ [])
end_item s dev k held (Some (own.Abort n)) mine h = refl

completion_in_link : (s : ScenarioValue) (dev : ℕ) (k : RunState) (v : TransfersValue)
    (d : RowReading) (c : Change) (l : Option Link) (o : Option OwnLink)
    → c ≡ d.change → IsLinkIf dev l o → IsOwnedIf s dev l → AreHeldOf s dev k.story.carried v.held
    → event_if (completion_in v c o) ≡ initiator_events k l d
completion_in_link s dev k v d c None None e x own h = refl
completion_in_link s dev k v d c None (Some o) e x own h = absurd x
completion_in_link s dev k v d c (Some l) None e x own h = absurd x
completion_in_link s dev k v d c (Some l) (Some o) e x own h =
    (λ i. event_if (if test i then end_of v.held (process_in o.item) else None)) ∙ go (is_completion l d.change)
  where
    test : takes_complete o c ≡ is_completion l d.change
    test = (λ i. rises (e i).before.ack (e i).after.ack
        && is_message_in (e i).before && complete_is o.last i && not (e i).after.atn)
        ∙ (λ i. rises d.change.before.ack d.change.after.ack && is_message_in d.change.before
        && is_complete (x.last_is i) && not d.change.after.atn)

    ends : event_if (end_of v.held (process_in o.item)) ≡ end_events (carried_if k.story l.item)
    ends = end_item s dev k v.held o.item (subst (λ (z : Option Item). IsItemIf s dev z) (sym x.item_is) own.item) h
        ∙ (λ i. end_events (carried_if k.story (x.item_is i)))

    go : (q : Bool) → event_if (if q then end_of v.held (process_in o.item) else None)
        ≡ (if q then end_events (carried_if k.story l.item) else [])
    go true = ends
    go false = refl

pub completion_is : (s : ScenarioValue) (rows : List Row) (row : Row) (v : TransfersValue) (h : Hearing)
    → IsPlain s rows (run_state s rows)
    → hearing_of (run_state s rows) row (row_reading (run_state s rows).story.bus_state row) ≡ hearing rows row
    → AreOfDevices rows → h ≡ hearing rows row → IsTransfersOf s rows v → event_if (completion_in v h.change v.link)
    ≡ initiator_events (run_state s rows) (own_link v.dev (connection rows) (run_state s rows).story.link)
    (row_reading (run_state s rows).story.bus_state row)
completion_is s rows row v h p heard d told x = completion_in_link s v.dev
    (run_state s rows) v (row_reading (run_state s rows).story.bus_state row) h.change _ v.link
    (λ i. ((told ∙ sym heard) i).change) x.link_is (link_owned s rows v.dev p d) x.held_are

-- In a connection of its own.
pub own_is : (rows : List Row) (dev : ℕ) (n : Connection) (l : Option Link) → IsOwnConnection rows dev n
    → own_link dev (connection rows) l ≡ l
own_is rows dev n l h = (λ i. own_link dev (h.stands i) l) ∙ (λ i. if h.own i then l else None)
