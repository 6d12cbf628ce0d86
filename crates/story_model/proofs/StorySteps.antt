-- What one event, or one byte, leaves of what the story keeps: links, items and carried bytes.
use Rattle.bus_phases.specs.bus_base.specs.declared.Event.TheVariants as events
use Rattle.bus_phases.specs.bus_base.specs.declared.Event.{Event}
use Rattle.story_model.specs.BusState.{RowReading}
use Rattle.story_model.specs.HistoryEvents.{carried_if}
use Rattle.story_model.specs.Items.{Item, abort, process, sense_item, is_open, count_item}
use Rattle.story_model.specs.Links.{Link, last_out, link_of}
use Rattle.story_model.specs.Story.{Story, story_after_events, Ending, by_abort, by_reset, is_aborted, is_sense_stopped}
use Rattle.story_model.specs.Story.{story_with_over, story_with_end, with_check, story_with_ends, story_after_event}
use Rattle.story_model.specs.Story.{story_with_end_if}
use Rattle.story_model.specs.TraceHistory.{aim_of, carried_after_byte_if, is_parity_error, story_after_byte}
use Rattle.story_model.specs.TraceHistory.{story_after_connection, story_after_out, story_with_carried}
use Rattle.story_model.specs.TraceHistory.{story_with_restored, story_with_sent, story_after_calling_by, story_with_try}
use Rattle.story_model.specs.TraceHistory.{story_without_answer, story_after_calling, retries_of, story_with_aim}
use Rattle.story_model.specs.TraceHistory.{is_counted, story_on_free_bus, story_after_fault, carried_after_fault_if}
use Rattle.bus_phases.specs.bus_trace.specs.declared.connection.Connection.{Connection}
use Rattle.bus_phases.specs.msg_grammar.specs.declared.message.MsgOut.{MsgOut}
use Rattle.array_model.specs.scenario.specs.Value.{ScenarioValue}
use Rattle.std.proofs.Common.{Bool, List, None, Option, Some, [], false, refl, true, ◌∙◌, ◌∷◌, ◌≡◌, ℕ, ◌+◌, not, ◌&&◌}
use Rattle.std.proofs.Common.{◌++◌, ◌==◌}
use Rattle.std.specs.Prelude.{if◌then◌else◌, is_none, nat_lt}
use Rattle.std.specs.List.{list_any}
use Rattle.bus_phases.specs.bus_base.specs.declared.ProcId.{ProcId}
use Rattle.array_model.specs.cdb_codec.specs.declared.status.TheConstants.{CHECK_CONDITION}
use Rattle.array_model.specs.scenario.specs.declared.value.CmdDef.{CmdDef}
use Rattle.story_model.specs.CarriedBytes.{CarriedBytes, carried_after_message}
use Rattle.bus_phases.specs.bus_trace.specs.declared.selection.Calling.{Calling}
use Rattle.bus_phases.specs.bus_trace.specs.declared.selection.Call.{Call}
use Rattle.bus_phases.specs.bus_trace.specs.declared.Row.{Row}
use Rattle.bus_phases.specs.bus_trace.specs.Changes.{falls, rises}
use Rattle.bus_phases.specs.msg_grammar.specs.declared.message.MsgIn.{MsgIn}
use Rattle.bus_phases.specs.msg_grammar.specs.declared.message.MsgIn.TheVariants as to_initiator
use Rattle.bus_phases.specs.bus_trace.specs.declared.Kind.{Kind}
use Rattle.bus_phases.specs.bus_trace.specs.declared.Kind.TheVariants.{Fault, Drives}

pub ends_keep : (drops stops : CmdDef → Bool) (e : Ending) (n : ℕ) (commands : List CmdDef) (b : Story)
    → ((story_with_ends drops stops e n commands b).carried ≡ b.carried)
    × ((story_with_ends drops stops e n commands b).link ≡ b.link)
ends_keep drops stops e n [] b = (refl, refl)
ends_keep drops stops e n (c ∷ commands) b =
    let rest = ends_keep drops stops e (n + 1) commands
    (story_with_end_if drops stops e n c b) in
    let here = go (is_open b.sent n && drops c) (stops c && list_any (λ k. k == n) b.sent.checks) in
    (rest.0 ∙ here.0, rest.1 ∙ here.1)
  where
    go : (q r : Bool) → ((if q then story_with_end b (record { command = n; sense = false }) e
        else if r then story_with_over b (sense_item n) else b).carried ≡ b.carried)
        × ((if q then story_with_end b (record { command = n; sense = false }) e
        else if r then story_with_over b (sense_item n) else b).link ≡ b.link)
    go true r = (refl, refl)
    go false true = (refl, refl)
    go false false = (refl, refl)

pub ends_carried : (drops stops : CmdDef → Bool) (e : Ending) (n : ℕ) (commands : List CmdDef) (b : Story)
    → (story_with_ends drops stops e n commands b).carried ≡ b.carried
ends_carried drops stops e n commands b = (ends_keep drops stops e n commands b).0

pub ends_link : (drops stops : CmdDef → Bool) (e : Ending) (n : ℕ) (commands : List CmdDef) (b : Story)
    → (story_with_ends drops stops e n commands b).link ≡ b.link
ends_link drops stops e n commands b = (ends_keep drops stops e n commands b).1

pub check_keeps : (b : Story) (id : ProcId) (status : ℕ)
    → ((with_check b id status).carried ≡ b.carried) × ((with_check b id status).link ≡ b.link)
check_keeps b id status = go (not id.sense && status == CHECK_CONDITION)
  where
    go : (q : Bool)
        → ((if q then record b { sent = record b.sent { checks = b.sent.checks ++ id.command ∷ [] } } else b).carried
        ≡ b.carried)
        × ((if q then record b { sent = record b.sent { checks = b.sent.checks ++ id.command ∷ [] } } else b).link
        ≡ b.link)
    go true = (refl, refl)
    go false = (refl, refl)

pub check_carried : (b : Story) (id : ProcId) (status : ℕ) → (with_check b id status).carried ≡ b.carried
check_carried b id status = (check_keeps b id status).0

pub event_link : (s : ScenarioValue) (b : Story) (event : Event) → (story_after_event s b event).link ≡ b.link
event_link s b (events.Accept id) = refl
event_link s b (events.Refuse id) = refl
event_link s b (events.Run id) = refl
event_link s b (events.Fail id code) = refl
event_link s b (events.End id status) = (check_keeps (story_with_end b id _) id status).1
event_link s b (events.Lost id) = refl
event_link s b (events.Aborted host target unit what) =
    (ends_keep (is_aborted host target unit what) (is_sense_stopped host target unit what) by_abort 1 s.commands b).1
event_link s b (events.Reset dev) = (ends_keep (λ c. true) (λ c. true) by_reset 1 s.commands b).1

pub carried_link : (b : Story) (c : Option CarriedBytes) → (story_with_carried b c).link ≡ b.link
carried_link b None = refl
carried_link b (Some c) = refl

pub restored_link : (b : Story) (item : Option Item) → (story_with_restored b item).link ≡ b.link
restored_link b None = refl
restored_link b (Some (process id)) = refl
restored_link b (Some (abort n)) = refl

pub sent_link : (b : Story) (item : Option Item) → (story_with_sent b item).link ≡ b.link
sent_link b None = refl
sent_link b (Some item) = refl

pub first_link : (b : Story) (n : Connection)
    → (story_after_connection b n).link ≡ Some (link_of n (if n.reselected then None else aim_of b.aims n.initiator))
first_link b n = go n.reselected (aim_of b.aims n.initiator)
  where
    go : (q : Bool) (item : Option Item) → (if q then record b { link = Some (link_of n None) }
        else story_with_restored (story_with_sent (record b { link = Some (link_of n item) }) item) item).link
        ≡ Some (link_of n (if q then None else item))
    go true item = refl
    go false item = restored_link (story_with_sent (record b { link = Some (link_of n item) }) item) item
        ∙ sent_link (record b { link = Some (link_of n item) }) item

pub byte_link : (b : Story) (l : Link) (d : RowReading) → (story_after_byte b l d).link ≡ b.link
byte_link b l d = go d.change.before.msg
  where
    go : (q : Bool)
        → (if q then b else story_with_carried b (carried_after_byte_if (carried_if b l.item) d)).link ≡ b.link
    go true = refl
    go false = carried_link b (carried_after_byte_if (carried_if b l.item) d)

pub out_link : (b : Story) (l : Link) (m : MsgOut)
    → (story_after_out b l (Some m)).link ≡ Some (record l { last = last_out m l })
out_link b l m = carried_link (record b { link = Some (record l { last = last_out m l }) })
    (if is_parity_error m then l.undo else None)

pub events_link : (s : ScenarioValue) (b : Story) (shown : List Event) → (story_after_events s b shown).link ≡ b.link
events_link s b [] = refl
events_link s b (e ∷ shown) = event_link s (story_after_events s b shown) e ∙ events_link s b shown

pub restored_aims : (b : Story) (item : Option Item) → (story_with_restored b item).aims ≡ b.aims
restored_aims b None = refl
restored_aims b (Some (process id)) = refl
restored_aims b (Some (abort k)) = refl

pub sent_aims : (b : Story) (item : Option Item) → (story_with_sent b item).aims ≡ b.aims
sent_aims b None = refl
sent_aims b (Some item) = refl

pub restored_sent : (b : Story) (item : Option Item) → (story_with_restored b item).sent ≡ b.sent
restored_sent b None = refl
restored_sent b (Some (process id)) = refl
restored_sent b (Some (abort k)) = refl

pub sent_carried : (b : Story) (item : Option Item) → (story_with_sent b item).carried ≡ b.carried
sent_carried b None = refl
sent_carried b (Some item) = refl

pub ends_aims : (drops stops : CmdDef → Bool) (e : Ending) (n : ℕ) (commands : List CmdDef) (b : Story)
    → (story_with_ends drops stops e n commands b).aims ≡ b.aims
ends_aims drops stops e n [] b = refl
ends_aims drops stops e n (c ∷ commands) b =
    ends_aims drops stops e (n + 1) commands
    (story_with_end_if drops stops e n c b)
    ∙ go (is_open b.sent n && drops c) (stops c && list_any (λ k. k == n) b.sent.checks)
  where
    go : (q r : Bool) → (if q then story_with_end b (record { command = n; sense = false }) e
        else if r then story_with_over b (sense_item n) else b).aims ≡ b.aims
    go true r = refl
    go false true = refl
    go false false = refl

pub check_aims : (b : Story) (id : ProcId) (status : ℕ) → (with_check b id status).aims ≡ b.aims
check_aims b id status = go (not id.sense && status == CHECK_CONDITION)
  where
    go : (q : Bool)
        → (if q then record b { sent = record b.sent { checks = b.sent.checks ++ id.command ∷ [] } } else b).aims
        ≡ b.aims
    go true = refl
    go false = refl

pub event_aims : (s : ScenarioValue) (b : Story) (event : Event) → (story_after_event s b event).aims ≡ b.aims
event_aims s b (events.Accept id) = refl
event_aims s b (events.Refuse id) = refl
event_aims s b (events.Run id) = refl
event_aims s b (events.Fail id code) = refl
event_aims s b (events.End id status) = check_aims (story_with_end b id _) id status
event_aims s b (events.Lost id) = refl
event_aims s b (events.Aborted host target unit what) =
    ends_aims (is_aborted host target unit what) (is_sense_stopped host target unit what) by_abort 1 s.commands b
event_aims s b (events.Reset dev) = ends_aims (λ c. true) (λ c. true) by_reset 1 s.commands b

pub events_aims : (s : ScenarioValue) (b : Story) (shown : List Event) → (story_after_events s b shown).aims ≡ b.aims
events_aims s b [] = refl
events_aims s b (event ∷ shown) = event_aims s (story_after_events s b shown) event ∙ events_aims s b shown

pub try_aims : (s : ScenarioValue) (b : Story) (dev : ℕ) (item : Option Item)
    → (story_with_try s b dev item).aims ≡ b.aims
try_aims s b dev None = refl
try_aims s b dev (Some item) = go _ item
  where
    go : (q : Bool) (i : Item)
        → (if q then story_without_answer (record b { sent = record b.sent { tries = item ∷ b.sent.tries } }) i
        else record b { sent = record b.sent { tries = item ∷ b.sent.tries } }).aims ≡ b.aims
    go true (process id) = refl
    go true (abort k) = refl
    go false i = refl

pub calling_aims : (s : ScenarioValue) (b : Story) (call : Option Call) → (story_after_calling s b call).aims ≡ b.aims
calling_aims s b None = refl
calling_aims s b (Some k) = by k.calling
  where
    by : (g : Option Calling) → (story_after_calling_by s b k.caller g).aims ≡ b.aims
    by None = refl
    by (Some g) = go (is_none g.answered && not g.reselects)
      where
        go : (q : Bool) → (if q then story_with_try s b k.caller (aim_of b.aims k.caller) else b).aims ≡ b.aims
        go true = try_aims s b k.caller (aim_of b.aims k.caller)
        go false = refl

pub begun_aims : (b : Story) (n : Connection) → (story_after_connection b n).aims ≡ b.aims
begun_aims b n = go n.reselected (aim_of b.aims n.initiator)
  where
    go : (q : Bool) (item : Option Item) → (if q then record b { link = Some (link_of n None) }
        else story_with_restored (story_with_sent (record b { link = Some (link_of n item) }) item) item).aims ≡ b.aims
    go true item = refl
    go false item = restored_aims _ item ∙ sent_aims _ item

pub ends_sent : (drops stops : CmdDef → Bool) (e : Ending) (n : ℕ) (commands : List CmdDef) (b : Story)
    → (story_with_ends drops stops e n commands b).sent.sent ≡ b.sent.sent
ends_sent drops stops e n [] b = refl
ends_sent drops stops e n (c ∷ commands) b =
    ends_sent drops stops e (n + 1) commands
    (story_with_end_if drops stops e n c b)
    ∙ go (is_open b.sent n && drops c) (stops c && list_any (λ k. k == n) b.sent.checks)
  where
    go : (q r : Bool) → (if q then story_with_end b (record { command = n; sense = false }) e
        else if r then story_with_over b (sense_item n) else b).sent.sent ≡ b.sent.sent
    go true r = refl
    go false true = refl
    go false false = refl

pub check_sent : (b : Story) (id : ProcId) (status : ℕ) → (with_check b id status).sent.sent ≡ b.sent.sent
check_sent b id status = go (not id.sense && status == CHECK_CONDITION)
  where
    go : (q : Bool)
        → (if q then record b { sent = record b.sent { checks = b.sent.checks ++ id.command ∷ [] } } else b).sent.sent
        ≡ b.sent.sent
    go true = refl
    go false = refl

pub event_sent : (s : ScenarioValue) (b : Story) (event : Event) → (story_after_event s b event).sent.sent ≡ b.sent.sent
event_sent s b (events.Accept id) = refl
event_sent s b (events.Refuse id) = refl
event_sent s b (events.Run id) = refl
event_sent s b (events.Fail id code) = refl
event_sent s b (events.End id status) = check_sent (story_with_end b id _) id status
event_sent s b (events.Lost id) = refl
event_sent s b (events.Aborted host target unit what) =
    ends_sent (is_aborted host target unit what) (is_sense_stopped host target unit what) by_abort 1 s.commands b
event_sent s b (events.Reset dev) = ends_sent (λ c. true) (λ c. true) by_reset 1 s.commands b

pub events_sent : (s : ScenarioValue) (b : Story) (shown : List Event)
    → (story_after_events s b shown).sent.sent ≡ b.sent.sent
events_sent s b [] = refl
events_sent s b (event ∷ shown) = event_sent s (story_after_events s b shown) event ∙ events_sent s b shown

pub ends_checks : (drops stops : CmdDef → Bool) (e : Ending) (n : ℕ) (commands : List CmdDef) (b : Story)
    → (story_with_ends drops stops e n commands b).sent.checks ≡ b.sent.checks
ends_checks drops stops e n [] b = refl
ends_checks drops stops e n (c ∷ commands) b =
    ends_checks drops stops e (n + 1) commands
    (story_with_end_if drops stops e n c b)
    ∙ go (is_open b.sent n && drops c) (stops c && list_any (λ k. k == n) b.sent.checks)
  where
    go : (q r : Bool) → (if q then story_with_end b (record { command = n; sense = false }) e
        else if r then story_with_over b (sense_item n) else b).sent.checks ≡ b.sent.checks
    go true r = refl
    go false true = refl
    go false false = refl

pub try_carried : (s : ScenarioValue) (b : Story) (d : ℕ) (item : Option Item)
    → (story_with_try s b d item).carried ≡ b.carried
try_carried s b d None = refl
try_carried s b d (Some item) =
    go (is_counted item && nat_lt (retries_of s.hosts d) (count_item (item ∷ b.sent.tries) item))
  where
    by_item : (i : Item)
        → (story_without_answer (record b { sent = record b.sent { tries = i ∷ b.sent.tries } }) i).carried ≡ b.carried
    by_item (process id) = refl
    by_item (abort k) = refl

    go : (q : Bool)
        → (if q then story_without_answer (record b { sent = record b.sent { tries = item ∷ b.sent.tries } }) item
        else record b { sent = record b.sent { tries = item ∷ b.sent.tries } }).carried ≡ b.carried
    go true = by_item item
    go false = refl

pub calling_carried : (s : ScenarioValue) (b : Story) (c : Option Call)
    → (story_after_calling s b c).carried ≡ b.carried
calling_carried s b None = refl
calling_carried s b (Some c) = by_calling c.calling
  where
    by_calling : (k : Option Calling) → (story_after_calling_by s b c.caller k).carried ≡ b.carried
    by_calling None = refl
    by_calling (Some k) = go (is_none k.answered && not k.reselects)
      where
        go : (q : Bool) → (if q then story_with_try s b c.caller (aim_of b.aims c.caller) else b).carried ≡ b.carried
        go true = try_carried s b c.caller (aim_of b.aims c.caller)
        go false = refl

pub free_carried : (s : ScenarioValue) (b : Story) (d : RowReading) (row : Row)
    → (story_on_free_bus s b d row).carried ≡ b.carried
free_carried s b d row = go (rises d.change.own.bsy d.change.next.bsy && not d.change.before.sel
    && is_none b.bus_state.connection) (falls d.change.before.sel d.change.after.sel)
  where
    go : (p q : Bool)
        → (if p then story_with_aim s b row else if q then story_after_calling s b b.bus_state.call else b).carried
        ≡ b.carried
    go true q = refl
    go false true = calling_carried s b b.bus_state.call
    go false false = refl

pub message_id : (k : CarriedBytes) (m : MsgIn) → (carried_after_message k m).id ≡ k.id
message_id k to_initiator.SavePointer = refl
message_id k to_initiator.RestorePointers = refl
message_id k (to_initiator.Identify lun) = refl
message_id k (to_initiator.SimpleTag n) = refl
message_id k to_initiator.CommandComplete = refl
message_id k to_initiator.Disconnect = refl
message_id k (to_initiator.Sdtr a) = refl
message_id k to_initiator.Reject = refl

pub try_link : (s : ScenarioValue) (b : Story) (d : ℕ) (item : Option Item) → (story_with_try s b d item).link ≡ b.link
try_link s b d None = refl
try_link s b d (Some item) =
    go (is_counted item && nat_lt (retries_of s.hosts d) (count_item (item ∷ b.sent.tries) item))
  where
    by_item : (i : Item)
        → (story_without_answer (record b { sent = record b.sent { tries = i ∷ b.sent.tries } }) i).link ≡ b.link
    by_item (process id) = refl
    by_item (abort k) = refl

    go : (q : Bool)
        → (if q then story_without_answer (record b { sent = record b.sent { tries = item ∷ b.sent.tries } }) item
        else record b { sent = record b.sent { tries = item ∷ b.sent.tries } }).link ≡ b.link
    go true = by_item item
    go false = refl

pub calling_link : (s : ScenarioValue) (b : Story) (c : Option Call) → (story_after_calling s b c).link ≡ b.link
calling_link s b None = refl
calling_link s b (Some c) = by_calling c.calling
  where
    by_calling : (k : Option Calling) → (story_after_calling_by s b c.caller k).link ≡ b.link
    by_calling None = refl
    by_calling (Some k) = go (is_none k.answered && not k.reselects)
      where
        go : (q : Bool) → (if q then story_with_try s b c.caller (aim_of b.aims c.caller) else b).link ≡ b.link
        go true = try_link s b c.caller (aim_of b.aims c.caller)
        go false = refl

pub free_link : (s : ScenarioValue) (b : Story) (d : RowReading) (row : Row)
    → (story_on_free_bus s b d row).link ≡ b.link
free_link s b d row = go (rises d.change.own.bsy d.change.next.bsy && not d.change.before.sel
    && is_none b.bus_state.connection) (falls d.change.before.sel d.change.after.sel)
  where
    go : (p q : Bool)
        → (if p then story_with_aim s b row else if q then story_after_calling s b b.bus_state.call else b).link
        ≡ b.link
    go true q = refl
    go false true = calling_link s b b.bus_state.call
    go false false = refl

pub fault_link : (b : Story) (l : Link) (kind : Kind) → (story_after_fault b l kind).link ≡ b.link
fault_link b l (Drives lines) = refl
fault_link b l (Fault bit) = carried_link b (carried_after_fault_if (carried_if b l.item) b.bus_state.crossed)
