-- What ends a command in the story of the rows: events, and callings without an answer.
use Rattle.std.proofs.Common.{ℕ, suc, zero, ◌≡◌, ◌+◌, ◌<◌, Bool, true, false, List, [], ◌∷◌, ◌∙◌, refl, sym, ap, arith}
use Rattle.std.proofs.Common.{Option, Some, None}
use Rattle.std.specs.Prelude.{if◌then◌else◌, not, ◌&&◌, ◌||◌, ◌==◌, ◌++◌, is_some, is_none, nat_lt}
use Rattle.std.specs.List.{list_any}
use Rattle.std.proofs.lemmas.Bool.{ne_eqb, eq-eqb, eqb-true}
use Rattle.bus_base.specs.declared.ProcId.{ProcId}
use Rattle.bus_base.specs.declared.Event.{Event}
use Rattle.bus_base.specs.declared.Event.TheVariants as events
use Rattle.cdb_codec.specs.declared.status.TheConstants.{CHECK_CONDITION}
use Rattle.bus_trace.specs.declared.Kind.{Kind}
use Rattle.bus_trace.specs.declared.Kind.TheVariants.{Drives, Fault}
use Rattle.bus_trace.specs.declared.Row.{Row}
use Rattle.bus_trace.specs.declared.connection.Connection.{Connection}
use Rattle.bus_trace.specs.declared.selection.Call.{Call}
use Rattle.bus_trace.specs.declared.selection.Calling.{Calling}
use Rattle.bus_trace.specs.Changes.{rises, falls}
use Rattle.msg_grammar.specs.declared.message.MsgOut.{MsgOut}
use Rattle.msg_grammar.specs.declared.message.MsgIn.{MsgIn}
use Rattle.scenario.specs.declared.value.CmdDef.{CmdDef}
use Rattle.scenario.specs.Value.{ScenarioValue}
use Rattle.array_model.specs.Processes.{command_at, same_bool}
use Rattle.story_model.specs.BusState.{RowReading, row_reading}
use Rattle.story_model.specs.CarriedBytes.{CarriedBytes}
use Rattle.story_model.specs.HistoryEvents.{carried_if, row_events_by, link_events}
use Rattle.story_model.specs.Items.{Item, process, abort, command_item, sense_item, has_item, is_open, count_item}
use Rattle.story_model.specs.Links.{Link, link_of, last_out, last_in, link_after_name}
use Rattle.story_model.specs.Outcomes.{ending_of}
use Rattle.story_model.specs.Story.{Story, Ending, by_status, by_loss, by_abort, by_reset, unanswered, is_ended}
use Rattle.story_model.specs.Story.{with_ending, story_with_over, story_with_end, story_with_ends, is_aborted}
use Rattle.story_model.specs.Story.{is_sense_stopped, story_after_event, story_after_events}
use Rattle.story_model.specs.TraceHistory.{aim_of, retries_of, is_counted, story_with_aim, story_without_answer}
use Rattle.story_model.specs.TraceHistory.{story_with_try, story_after_calling, story_after_calling_by}
use Rattle.story_model.specs.TraceHistory.{story_on_free_bus}
use Rattle.story_model.specs.TraceHistory.{story_with_restored, story_with_sent, story_after_connection}
use Rattle.story_model.specs.TraceHistory.{story_with_carried, story_after_out, story_after_message, story_after_name}
use Rattle.story_model.specs.TraceHistory.{story_after_in, story_after_byte, story_after_crossing, story_after_fault}
use Rattle.story_model.specs.TraceHistory.{story_in_connection, story_on_bus, story_by_change, is_parity_error}
use Rattle.story_model.specs.TraceHistory.{carried_after_message_if, carried_after_byte_if, carried_after_fault_if}
use Rattle.due_model.specs.RunSteps.{run_state, events_of_row}
use Rattle.initiator_books.proofs.Wishes.{IsCaller}
use Rattle.initiator_books.proofs.Mines.{step}
use Rattle.story_model.proofs.StorySteps.{events_link, free_link}
use Rattle.due_model.specs.dialogue_model.specs.Events.{is_empty}

-- ---- the first ending stays

abbrev pub first_of : Option Ending → Ending → Option Ending
first_of None e = Some e
first_of (Some x) e = Some x

abbrev pub ended_if : Bool → Option Ending → Ending → Option Ending
ended_if true old e = first_of old e
ended_if false old e = old

none_of : (ended : List (ℕ × Ending)) (n : ℕ) → is_ended ended n ≡ false → ending_of ended n ≡ None
none_of [] n h = refl
none_of (x ∷ ended) n h = go (x.0 == n) h (λ z. none_of ended n z)
  where
    go : (q : Bool) → (q || is_ended ended n) ≡ false → (is_ended ended n ≡ false → ending_of ended n ≡ None)
        → (if q then Some x.1 else ending_of ended n) ≡ None
    go true z r = cc
    go false z r = r z

some_of : (ended : List (ℕ × Ending)) (n : ℕ) (e : Ending) → is_ended ended n ≡ true
    → first_of (ending_of ended n) e ≡ ending_of ended n
some_of [] n e h = cc
some_of (x ∷ ended) n e h = go (x.0 == n) h (λ z. some_of ended n e z)
  where
    go : (q : Bool) → (q || is_ended ended n) ≡ true
        → (is_ended ended n ≡ true → first_of (ending_of ended n) e ≡ ending_of ended n)
        → first_of (if q then Some x.1 else ending_of ended n) e ≡ (if q then Some x.1 else ending_of ended n)
    go true z r = refl
    go false z r = r z

ending_with : (ended : List (ℕ × Ending)) (k n : ℕ) (e : Ending) (p : Bool) → is_ended ended k ≡ p
    → (q : Bool) → (k == n) ≡ q → ending_of (if p then ended else (k, e) ∷ ended) n ≡ ended_if q (ending_of ended n) e
ending_with ended k n e true h true g =
    sym (some_of ended n e (ap (λ (z : ℕ). is_ended ended z) (sym (eqb-true k n g)) ∙ h))
ending_with ended k n e true h false g = refl
ending_with ended k n e false h true g =
    (λ i. if g i then Some e else ending_of ended n)
    ∙ (λ i. first_of (sym (none_of ended n (ap (λ (z : ℕ). is_ended ended z) (sym (eqb-true k n g)) ∙ h)) i) e)
ending_with ended k n e false h false g = λ i. if g i then Some e else ending_of ended n

pub with_ending_at : (ended : List (ℕ × Ending)) (id : ProcId) (e : Ending) (n : ℕ)
    → ending_of (with_ending ended id e) n ≡ ended_if (not id.sense && id.command == n) (ending_of ended n) e
with_ending_at ended id e n = go id.sense
  where
    go : (x : Bool) → ending_of (if x || is_ended ended id.command then ended else (id.command, e) ∷ ended) n
        ≡ ended_if (not x && id.command == n) (ending_of ended n) e
    go true = refl
    go false = ending_with ended id.command n e (is_ended ended id.command) refl (id.command == n) refl

-- ---- a command is over where it has an ending

pub record AreEnded (b : Story) : Type 0 where
  pub over : (n : ℕ) → has_item b.sent.over (command_item n) ≡ is_some (ending_of b.ended n)

some_first : (old : Option Ending) (e : Ending) → is_some (first_of old e) ≡ true
some_first None e = refl
some_first (Some x) e = refl

over_more : (over : List Item) (old : Option Ending) (e : Ending) (n : ℕ) (id : ProcId)
    → has_item over (command_item n) ≡ is_some old
    → has_item (process id ∷ over) (command_item n) ≡ is_some (ended_if (not id.sense && id.command == n) old e)
over_more over old e n id h = go id.sense (id.command == n)
  where
    go : (x q : Bool)
        → (q && same_bool x false || has_item over (command_item n)) ≡ is_some (ended_if (not x && q) old e)
    go true true = h
    go true false = h
    go false true = sym (some_first old e)
    go false false = h

end_keeps : (b : Story) (id : ProcId) (e : Ending) → AreEnded b → AreEnded (story_with_end b id e)
end_keeps b id e h = record {
  over = λ n. over_more b.sent.over (ending_of b.ended n) e n id (h.over n)
      ∙ (λ i. is_some (sym (with_ending_at b.ended id e n) i));
}

sense_keeps : (b : Story) (k : ℕ) → AreEnded b → AreEnded (story_with_over b (sense_item k))
sense_keeps b k h = record { over = λ n. go n (k == n) }
  where
    go : (n : ℕ) (q : Bool) → (q && false || has_item b.sent.over (command_item n)) ≡ is_some (ending_of b.ended n)
    go n true = h.over n
    go n false = h.over n

-- ---- every command that two tests name, in turn

step_keeps : (drops stops : CmdDef → Bool) (e : Ending) (k : ℕ) (c : CmdDef) (b : Story) → AreEnded b
    → AreEnded (step drops stops e k c b)
unfolding step
step_keeps drops stops e k c b h = go (is_open b.sent k && drops c) (stops c && list_any (λ j. j == k) b.sent.checks)
  where
    go : (p q : Bool) → AreEnded (if p then story_with_end b (record { command = k; sense = false }) e
        else if q then story_with_over b (sense_item k) else b)
    go true q = end_keeps b (record { command = k; sense = false }) e h
    go false true = sense_keeps b k h
    go false false = h

ends_keep : (drops stops : CmdDef → Bool) (e : Ending) (k : ℕ) (commands : List CmdDef) (b : Story) → AreEnded b
    → AreEnded (story_with_ends drops stops e k commands b)
unfolding step
ends_keep drops stops e k [] b h = h
ends_keep drops stops e k (c ∷ commands) b h =
    ends_keep drops stops e (k + 1) commands (step drops stops e k c b) (step_keeps drops stops e k c b h)

step_other : (drops stops : CmdDef → Bool) (e : Ending) (k : ℕ) (c : CmdDef) (b : Story) (n : ℕ) → (k == n) ≡ false
    → ending_of (step drops stops e k c b).ended n ≡ ending_of b.ended n
unfolding step
step_other drops stops e k c b n h = go (is_open b.sent k && drops c) (stops c && list_any (λ j. j == k) b.sent.checks)
  where
    go : (p q : Bool) → ending_of (if p then story_with_end b (record { command = k; sense = false }) e
        else if q then story_with_over b (sense_item k) else b).ended n ≡ ending_of b.ended n
    go true q = with_ending_at b.ended (record { command = k; sense = false }) e n
        ∙ (λ i. ended_if (h i) (ending_of b.ended n) e)
    go false true = refl
    go false false = refl

step_sent : (drops stops : CmdDef → Bool) (e : Ending) (k : ℕ) (c : CmdDef) (b : Story)
    → (step drops stops e k c b).sent.sent ≡ b.sent.sent
unfolding step
step_sent drops stops e k c b = go (is_open b.sent k && drops c) (stops c && list_any (λ j. j == k) b.sent.checks)
  where
    go : (p q : Bool) → (if p then story_with_end b (record { command = k; sense = false }) e
        else if q then story_with_over b (sense_item k) else b).sent.sent ≡ b.sent.sent
    go true q = refl
    go false true = refl
    go false false = refl

step_this : (drops stops : CmdDef → Bool) (e : Ending) (k : ℕ) (c : CmdDef) (b : Story) → AreEnded b
    → ending_of (step drops stops e k c b).ended k
    ≡ ended_if (has_item b.sent.sent (command_item k) && drops c) (ending_of b.ended k) e
unfolding step
step_this drops stops e k c b h = go (has_item b.sent.sent (command_item k)) (has_item b.sent.over (command_item k))
    (h.over k) (drops c) (stops c && list_any (λ j. j == k) b.sent.checks)
  where
    ends : ending_of (with_ending b.ended (record { command = k; sense = false }) e) k
        ≡ first_of (ending_of b.ended k) e
    ends = with_ending_at b.ended (record { command = k; sense = false }) e k
        ∙ (λ i. ended_if (eq-eqb k k refl i) (ending_of b.ended k) e)

    stays : (old : Option Ending) → true ≡ is_some old → old ≡ first_of old e
    stays None z = cc
    stays (Some x) z = refl

    go : (x o : Bool) → o ≡ is_some (ending_of b.ended k) → (d t : Bool)
        → ending_of (if (x && not o) && d then story_with_end b (record { command = k; sense = false }) e
        else if t then story_with_over b (sense_item k) else b).ended k ≡ ended_if (x && d) (ending_of b.ended k) e
    go true false z true t = ends
    go true false z false true = refl
    go true false z false false = refl
    go true true z true true = stays (ending_of b.ended k) z
    go true true z true false = stays (ending_of b.ended k) z
    go true true z false true = refl
    go true true z false false = refl
    go false o z d true = refl
    go false o z d false = refl

earlier : (drops stops : CmdDef → Bool) (e : Ending) (commands : List CmdDef) (b : Story) (k n : ℕ) → n < k
    → ending_of (story_with_ends drops stops e k commands b).ended n ≡ ending_of b.ended n
unfolding step
earlier drops stops e [] b k n h = refl
earlier drops stops e (c ∷ commands) b k n h =
    earlier drops stops e commands (step drops stops e k c b) (k + 1) n (omega (arith, h))
    ∙ step_other drops stops e k c b n (ne_eqb k n (λ z. omega (arith, z, h)))

abbrev pub drops_if : (CmdDef → Bool) → Option CmdDef → Bool
drops_if drops None = false
drops_if drops (Some c) = drops c

never : (x : Bool) (old : Option Ending) (e : Ending) → old ≡ ended_if (x && false) old e
never true old e = refl
never false old e = refl

ends_from : (drops stops : CmdDef → Bool) (e : Ending) (k : ℕ) (commands : List CmdDef) (b : Story) (j n : ℕ)
    → n ≡ j + k → AreEnded b → ending_of (story_with_ends drops stops e k commands b).ended n ≡ ended_if
    (has_item b.sent.sent (command_item n) && drops_if drops (command_at commands (suc j))) (ending_of b.ended n) e
unfolding step
ends_from drops stops e k [] b j n same h = never (has_item b.sent.sent (command_item n)) (ending_of b.ended n) e
ends_from drops stops e k (c ∷ commands) b zero n same h =
    let here : n ≡ k = omega (arith, same) in
    earlier drops stops e commands (step drops stops e k c b) (k + 1) n (omega (arith, same))
    ∙ (λ i. ending_of (step drops stops e k c b).ended (here i))
    ∙ step_this drops stops e k c b h
    ∙ (λ i. ended_if (has_item b.sent.sent (command_item (sym here i)) && drops c) (ending_of b.ended (sym here i)) e)
ends_from drops stops e k (c ∷ commands) b (suc j) n same h =
    let next : n ≡ j + (k + 1) = omega (arith, same) in
    let other : (k == n) ≡ false = ne_eqb k n (λ z. omega (arith, z, same)) in
    ends_from drops stops e (k + 1) commands (step drops stops e k c b) j n next (step_keeps drops stops e k c b h)
    ∙ (λ i. ended_if
    (has_item (step_sent drops stops e k c b i) (command_item n) && drops_if drops (command_at commands (suc j)))
    (step_other drops stops e k c b n other i) e)

pub no_first : (commands : List CmdDef) → None ≡ command_at commands zero
no_first [] = refl
no_first (c ∷ commands) = refl

pub ends_at : (drops stops : CmdDef → Bool) (e : Ending) (commands : List CmdDef) (b : Story) (n : ℕ) → AreEnded b
    → ending_of (story_with_ends drops stops e 1 commands b).ended n
    ≡ ended_if (has_item b.sent.sent (command_item n) && drops_if drops (command_at commands n)) (ending_of b.ended n) e
ends_at drops stops e commands b zero h = earlier drops stops e commands b 1 0 (omega arith)
    ∙ never (has_item b.sent.sent (command_item 0)) (ending_of b.ended 0) e
    ∙ (λ i. ended_if (has_item b.sent.sent (command_item 0) && drops_if drops (no_first commands i))
    (ending_of b.ended 0) e)
ends_at drops stops e commands b (suc j) h = ends_from drops stops e 1 commands b j (suc j) (omega arith) h

-- ---- an event

pub event_keeps : (s : ScenarioValue) (b : Story) (e : Event) → AreEnded b → AreEnded (story_after_event s b e)
event_keeps s b (events.Accept id) h = h
event_keeps s b (events.Refuse id) h = record { over = λ n. h.over n }
event_keeps s b (events.Run id) h = record { over = λ n. h.over n }
event_keeps s b (events.Fail id code) h = record { over = λ n. h.over n }
event_keeps s b (events.End id status) h =
    go (not id.sense && status == CHECK_CONDITION) (end_keeps b id (by_status status) h)
  where
    go : (q : Bool) → AreEnded (story_with_end b id (by_status status))
        → AreEnded (if q then record (story_with_end b id (by_status status)) {
          sent = record (story_with_end b id (by_status status)).sent { checks = b.sent.checks ++ id.command ∷ [] };
        } else story_with_end b id (by_status status))
    go true x = record { over = λ n. x.over n }
    go false x = x
event_keeps s b (events.Lost id) h = end_keeps b id by_loss h
event_keeps s b (events.Aborted host target unit what) h =
    ends_keep (is_aborted host target unit what) (is_sense_stopped host target unit what) by_abort 1 s.commands b h
event_keeps s b (events.Reset dev) h = ends_keep (λ c. true) (λ c. true) by_reset 1 s.commands b h

-- The ending of a command after an event, by what it was, whether it is sent, and which command it is.
abbrev pub ending_after : Event → Option CmdDef → Bool → ℕ → Option Ending → Option Ending
ending_after (events.End id status) c sent n old = ended_if (not id.sense && id.command == n) old (by_status status)
ending_after (events.Lost id) c sent n old = ended_if (not id.sense && id.command == n) old by_loss
ending_after (events.Aborted host target unit what) c sent n old =
    ended_if (sent && drops_if (is_aborted host target unit what) c) old by_abort
ending_after (events.Reset dev) c sent n old = ended_if (sent && drops_if (λ d. true) c) old by_reset
ending_after _ c sent n old = old

pub event_ends : (s : ScenarioValue) (b : Story) (e : Event) (n : ℕ) → AreEnded b
    → ending_of (story_after_event s b e).ended n
    ≡ ending_after e (command_at s.commands n) (has_item b.sent.sent (command_item n)) n (ending_of b.ended n)
event_ends s b (events.Accept id) n h = refl
event_ends s b (events.Refuse id) n h = refl
event_ends s b (events.Run id) n h = refl
event_ends s b (events.Fail id code) n h = refl
event_ends s b (events.End id status) n h =
    go (not id.sense && status == CHECK_CONDITION) ∙ with_ending_at b.ended id (by_status status) n
  where
    go : (q : Bool) → ending_of (if q then record (story_with_end b id (by_status status)) {
      sent = record (story_with_end b id (by_status status)).sent { checks = b.sent.checks ++ id.command ∷ [] };
    } else story_with_end b id (by_status status)).ended n ≡ ending_of (with_ending b.ended id (by_status status)) n
    go true = refl
    go false = refl
event_ends s b (events.Lost id) n h = with_ending_at b.ended id by_loss n
event_ends s b (events.Aborted host target unit what) n h =
    ends_at (is_aborted host target unit what) (is_sense_stopped host target unit what) by_abort s.commands b n h
event_ends s b (events.Reset dev) n h = ends_at (λ c. true) (λ c. true) by_reset s.commands b n h

pub events_keep : (s : ScenarioValue) (b : Story) (shown : List Event) → AreEnded b
    → AreEnded (story_after_events s b shown)
events_keep s b [] h = h
events_keep s b (e ∷ shown) h = event_keeps s (story_after_events s b shown) e (events_keep s b shown h)

-- ---- what leaves endings

-- The endings, and what is over, are the same.
pub record IsUnended (b c : Story) : Type 0 where
  pub ended : c.ended ≡ b.ended
  pub over : c.sent.over ≡ b.sent.over

unended_carried : (b : Story) (k : Option CarriedBytes) → IsUnended b (story_with_carried b k)
unended_carried b None = record { ended = refl; over = refl }
unended_carried b (Some k) = record { ended = refl; over = refl }

unended_restored : (b : Story) (item : Option Item) → IsUnended b (story_with_restored b item)
unended_restored b None = record { ended = refl; over = refl }
unended_restored b (Some (process id)) = record { ended = refl; over = refl }
unended_restored b (Some (abort k)) = record { ended = refl; over = refl }

unended_sent : (b : Story) (item : Option Item) → IsUnended b (story_with_sent b item)
unended_sent b None = record { ended = refl; over = refl }
unended_sent b (Some item) = record { ended = refl; over = refl }

unended_out : (b : Story) (l : Link) (m : Option MsgOut) → IsUnended b (story_after_out b l m)
unended_out b l None = record { ended = refl; over = refl }
unended_out b l (Some m) =
    let x = unended_carried (record b { link = Some (record l { last = last_out m l }) })
    (if is_parity_error m then l.undo else None) in
    record { ended = x.ended; over = x.over }

unended_message : (s : ScenarioValue) (b : Story) (l : Link) (m : MsgIn) → IsUnended b (story_after_message s b l m)
unended_message s b l m =
    let x = unended_carried (record b { link = Some l }) (carried_after_message_if (carried_if b l.item) m) in
    record { ended = x.ended; over = x.over }

unended_name : (s : ScenarioValue) (b : Story) (l next : Link) (m : MsgIn) → IsUnended b (story_after_name s b l next m)
unended_name s b l next m = go (is_none l.item)
  where
    go : (q : Bool) → IsUnended b (story_after_message s (if q then story_with_restored b next.item else b)
        (record next { last = last_in m; before = l.last; undo = carried_if b l.item }) m)
    go true =
        let y = unended_restored b next.item in
        let x = unended_message s (story_with_restored b next.item)
        (record next { last = last_in m; before = l.last; undo = carried_if b l.item }) m in
        record { ended = x.ended ∙ y.ended; over = x.over ∙ y.over }
    go false = unended_message s b (record next { last = last_in m; before = l.last; undo = carried_if b l.item }) m

unended_in : (s : ScenarioValue) (b : Story) (l : Link) (m : Option MsgIn) → IsUnended b (story_after_in s b l m)
unended_in s b l None = record { ended = refl; over = refl }
unended_in s b l (Some m) = unended_name s b l (link_after_name b.sent s.commands l m) m

unended_byte : (b : Story) (l : Link) (d : RowReading) → IsUnended b (story_after_byte b l d)
unended_byte b l d = go d.change.before.msg
  where
    go :
        (q : Bool) → IsUnended b (if q then b else story_with_carried b (carried_after_byte_if (carried_if b l.item) d))
    go true = record { ended = refl; over = refl }
    go false = unended_carried b (carried_after_byte_if (carried_if b l.item) d)

unended_crossing : (s : ScenarioValue) (b : Story) (l : Link) (d : RowReading)
    → IsUnended b (story_after_crossing s b l d)
unended_crossing s b l d = go (is_some d.out) (is_some d.into)
  where
    go : (p q : Bool) → IsUnended b
        (if p then story_after_out b l d.out else if q then story_after_in s b l d.into else story_after_byte b l d)
    go true q = unended_out b l d.out
    go false true = unended_in s b l d.into
    go false false = unended_byte b l d

unended_fault : (b : Story) (l : Link) (k : Kind) → IsUnended b (story_after_fault b l k)
unended_fault b l (Drives lines) = record { ended = refl; over = refl }
unended_fault b l (Fault bit) = unended_carried b (carried_after_fault_if (carried_if b l.item) b.bus_state.crossed)

unended_connected : (s : ScenarioValue) (b : Story) (l : Option Link) (d : RowReading) (row : Row)
    → IsUnended b (story_in_connection s b l d row)
unended_connected s b None d row = record { ended = refl; over = refl }
unended_connected s b (Some l) d row = go d.crosses
  where
    go : (q : Bool) → IsUnended b (if q then story_after_crossing s b l d else story_after_fault b l row.kind)
    go true = unended_crossing s b l d
    go false = unended_fault b l row.kind

pub unended_connection : (b : Story) (n : Connection) → IsUnended b (story_after_connection b n)
unended_connection b n = go n.reselected
  where
    go : (p : Bool) → IsUnended b (if p then record b { link = Some (link_of n None) } else story_with_restored
        (story_with_sent (record b { link = Some (link_of n (aim_of b.aims n.initiator)) }) (aim_of b.aims n.initiator))
        (aim_of b.aims n.initiator))
    go true = record { ended = refl; over = refl }
    go false =
        let c : Story = record b { link = Some (link_of n (aim_of b.aims n.initiator)) } in
        let x = unended_sent c (aim_of b.aims n.initiator) in
        let y = unended_restored (story_with_sent c (aim_of b.aims n.initiator)) (aim_of b.aims n.initiator) in
        record { ended = y.ended ∙ x.ended; over = y.over ∙ x.over }

-- In a connection, and as one begins or ends.
pub unended_linked :
    (s : ScenarioValue) (b : Story) (m : Connection) (n : Option Connection) (d : RowReading) (row : Row)
    → IsUnended b (story_on_bus s b (Some m) n d row)
unended_linked s b m None d row = record { ended = refl; over = refl }
unended_linked s b m (Some n) d row = unended_connected s b b.link d row

-- ---- a calling without an answer

-- What a row does before its events: it ends the command of this number not, or its initiator called for it in vain
-- once too often.
pub data Calls (b c : Story) (n : ℕ) : Type 0 where
  same : ending_of c.ended n ≡ ending_of b.ended n → Calls b c n
  vain : (d : ℕ) → d < 8 → aim_of b.aims d ≡ Some (command_item n) → ending_of b.ended n ≡ None
      → ending_of c.ended n ≡ Some unanswered → Calls b c n

process_calls : (b c : Story) (d n : ℕ) (id : ProcId) → d < 8 → aim_of b.aims d ≡ Some (process id)
    → c.ended ≡ with_ending b.ended id unanswered → Calls b c n
process_calls b c d n id lt aim h = go id.sense refl (id.command == n) refl (ending_of b.ended n) refl
  where
    known : ending_of c.ended n ≡ ended_if (not id.sense && id.command == n) (ending_of b.ended n) unanswered
    known = (λ i. ending_of (h i) n) ∙ with_ending_at b.ended id unanswered n

    go : (x : Bool) → id.sense ≡ x → (q : Bool) → (id.command == n) ≡ q
        → (old : Option Ending) → ending_of b.ended n ≡ old → Calls b c n
    go true e q g old o = same (known ∙ (λ i. ended_if (not (e i) && id.command == n) (ending_of b.ended n) unanswered))
    go false e false g old o = same (known ∙ (λ i. ended_if (not (e i) && g i) (ending_of b.ended n) unanswered))
    go false e true g (Some y) o = same (known ∙ (λ i. ended_if (not (e i) && g i) (o i) unanswered) ∙ sym o)
    go false e true g None o =
        vain d lt (aim ∙ (λ i. Some (process (record { command = eqb-true id.command n g i; sense = e i })))) o
        (known ∙ (λ i. ended_if (not (e i) && g i) (o i) unanswered))

try_calls : (s : ScenarioValue) (b : Story) (d n : ℕ) (item : Option Item) → d < 8 → aim_of b.aims d ≡ item
    → Calls b (story_with_try s b d item) n
try_calls s b d n None lt aim = same refl
try_calls s b d n (Some item) lt aim =
    go (is_counted item && nat_lt (retries_of s.hosts d) (count_item (item ∷ b.sent.tries) item))
  where
    by_item : (i : Item) → aim_of b.aims d ≡ Some i
        → Calls b (story_without_answer (record b { sent = record b.sent { tries = i ∷ b.sent.tries } }) i) n
    by_item (process id) z = process_calls b _ d n id lt z refl
    by_item (abort k) z = same refl

    go : (q : Bool) → Calls b
        (if q then story_without_answer (record b { sent = record b.sent { tries = item ∷ b.sent.tries } }) item
        else record b { sent = record b.sent { tries = item ∷ b.sent.tries } }) n
    go true = by_item item aim
    go false = same refl

try_keeps : (s : ScenarioValue) (b : Story) (d : ℕ) (item : Option Item) → AreEnded b
    → AreEnded (story_with_try s b d item)
try_keeps s b d None h = h
try_keeps s b d (Some item) h =
    go (is_counted item && nat_lt (retries_of s.hosts d) (count_item (item ∷ b.sent.tries) item))
  where
    by_item :
        (i : Item) → AreEnded (story_without_answer (record b { sent = record b.sent { tries = i ∷ b.sent.tries } }) i)
    by_item (process id) = end_keeps (record b { sent = record b.sent { tries = process id ∷ b.sent.tries } }) id
        unanswered (record { over = λ n. h.over n })
    by_item (abort k) = record { over = λ n. h.over n }

    go : (q : Bool) → AreEnded
        (if q then story_without_answer (record b { sent = record b.sent { tries = item ∷ b.sent.tries } }) item
        else record b { sent = record b.sent { tries = item ∷ b.sent.tries } })
    go true = by_item item
    go false = record { over = λ n. h.over n }

calling_calls : (s : ScenarioValue) (b : Story) (n : ℕ) (c : Option Call) → IsCaller c
    → Calls b (story_after_calling s b c) n
calling_calls s b n None lt = same refl
calling_calls s b n (Some c) lt = by_calling c.calling
  where
    by_calling : (k : Option Calling) → Calls b (story_after_calling_by s b c.caller k) n
    by_calling None = same refl
    by_calling (Some k) = go (is_none k.answered && not k.reselects)
      where
        go : (q : Bool) → Calls b (if q then story_with_try s b c.caller (aim_of b.aims c.caller) else b) n
        go true = try_calls s b c.caller n (aim_of b.aims c.caller) lt refl
        go false = same refl

calling_keeps : (s : ScenarioValue) (b : Story) (c : Option Call) → AreEnded b → AreEnded (story_after_calling s b c)
calling_keeps s b None h = h
calling_keeps s b (Some c) h = by_calling c.calling
  where
    by_calling : (k : Option Calling) → AreEnded (story_after_calling_by s b c.caller k)
    by_calling None = h
    by_calling (Some k) = go (is_none k.answered && not k.reselects)
      where
        go : (q : Bool) → AreEnded (if q then story_with_try s b c.caller (aim_of b.aims c.caller) else b)
        go true = try_keeps s b c.caller (aim_of b.aims c.caller) h
        go false = h

-- ---- a row before its events

unended_calls : (b c : Story) (n : ℕ) → IsUnended b c → Calls b c n
unended_calls b c n h = same (λ i. ending_of (h.ended i) n)

unended_keeps : (b c : Story) → IsUnended b c → AreEnded b → AreEnded c
unended_keeps b c h x = record {
  over = λ n. (λ i. has_item (h.over i) (command_item n)) ∙ x.over n ∙ (λ i. is_some (ending_of (sym h.ended i) n));
}

free_calls : (s : ScenarioValue) (b : Story) (n : ℕ) (d : RowReading) (row : Row) → IsCaller b.bus_state.call
    → Calls b (story_on_free_bus s b d row) n
free_calls s b n d row lt = go (rises d.change.own.bsy d.change.next.bsy && not d.change.before.sel
    && is_none b.bus_state.connection) (falls d.change.before.sel d.change.after.sel)
  where
    go : (p q : Bool)
        → Calls b (if p then story_with_aim s b row else if q then story_after_calling s b b.bus_state.call else b) n
    go true q = same refl
    go false true = calling_calls s b n b.bus_state.call lt
    go false false = same refl

free_keeps : (s : ScenarioValue) (b : Story) (d : RowReading) (row : Row) → AreEnded b
    → AreEnded (story_on_free_bus s b d row)
free_keeps s b d row h = go (rises d.change.own.bsy d.change.next.bsy && not d.change.before.sel
    && is_none b.bus_state.connection) (falls d.change.before.sel d.change.after.sel)
  where
    go : (p q : Bool)
        → AreEnded (if p then story_with_aim s b row else if q then story_after_calling s b b.bus_state.call else b)
    go true q = record { over = λ n. h.over n }
    go false true = calling_keeps s b b.bus_state.call h
    go false false = h

pub change_calls : (s : ScenarioValue) (b : Story) (n : ℕ) (d : RowReading) (row : Row) → IsCaller b.bus_state.call
    → Calls b (story_by_change s b d row) n
change_calls s b n d row lt = go d.change.after.rst
  where
    on_bus : (m k : Option Connection) → Calls b (story_on_bus s b m k d row) n
    on_bus None None = free_calls s b n d row lt
    on_bus None (Some k) = unended_calls b _ n (unended_connection b k)
    on_bus (Some m) k = unended_calls b _ n (unended_linked s b m k d row)

    go : (q : Bool)
        → Calls b (if q then record b { link = None } else story_on_bus s b b.bus_state.connection d.next d row) n
    go true = same refl
    go false = on_bus b.bus_state.connection d.next

pub change_keeps : (s : ScenarioValue) (b : Story) (d : RowReading) (row : Row) → AreEnded b
    → AreEnded (story_by_change s b d row)
change_keeps s b d row h = go d.change.after.rst
  where
    on_bus : (m k : Option Connection) → AreEnded (story_on_bus s b m k d row)
    on_bus None None = free_keeps s b d row h
    on_bus None (Some k) = unended_keeps b _ (unended_connection b k) h
    on_bus (Some m) k = unended_keeps b _ (unended_linked s b m k d row) h

    go : (q : Bool)
        → AreEnded (if q then record b { link = None } else story_on_bus s b b.bus_state.connection d.next d row)
    go true = record { over = λ n. h.over n }
    go false = on_bus b.bus_state.connection d.next

change_link : (s : ScenarioValue) (b : Story) (d : RowReading) (row : Row)
    → (b.bus_state.connection ≡ None → b.link ≡ None) → d.next ≡ None → (story_by_change s b d row).link ≡ None
change_link s b d row stands e = go d.change.after.rst
  where
    on_bus : (m : Option Connection) → b.bus_state.connection ≡ m → (k : Option Connection) → k ≡ None
        → (story_on_bus s b m k d row).link ≡ None
    on_bus None c None z = free_link s b d row ∙ stands c
    on_bus (Some m) c None z = refl
    on_bus None c (Some k) z = cc
    on_bus (Some m) c (Some k) z = cc

    go : (q : Bool)
        → (if q then record b { link = None } else story_on_bus s b b.bus_state.connection d.next d row).link ≡ None
    go true = refl
    go false = on_bus b.bus_state.connection refl d.next e

-- A row that shows events ends no command before them: all but a reset are shown in a connection.
pub shown_unended : (s : ScenarioValue) (b : Story) (d : RowReading) (row : Row)
    → (b.bus_state.connection ≡ None → b.link ≡ None) → is_empty (row_events_by s b d row) ≡ false
    → IsUnended b (story_by_change s b d row)
shown_unended s b d row stands h = go d.change.after.rst h
  where
    none_shown : is_empty (link_events s b None d) ≡ false → IsUnended b (story_on_bus s b None d.next d row)
    none_shown z = cc

    on_bus : (m : Option Connection) → b.bus_state.connection ≡ m → is_empty (link_events s b b.link d) ≡ false
        → IsUnended b (story_on_bus s b m d.next d row)
    on_bus None c z = none_shown ((λ i. is_empty (link_events s b (sym (stands c) i) d)) ∙ z)
    on_bus (Some m) c z = unended_linked s b m d.next d row

    go : (q : Bool)
        → is_empty (if q then (if rises d.change.own.rst d.change.next.rst then events.Reset row.dev ∷ [] else [])
        else link_events s b b.link d) ≡ false
        → IsUnended b (if q then record b { link = None } else story_on_bus s b b.bus_state.connection d.next d row)
    go true z = record { ended = refl; over = refl }
    go false z = on_bus b.bus_state.connection refl z

-- So does a row in a connection.
pub linked_unended : (s : ScenarioValue) (b : Story) (d : RowReading) (row : Row)
    → is_some b.bus_state.connection ≡ true → IsUnended b (story_by_change s b d row)
linked_unended s b d row e = go d.change.after.rst
  where
    on_bus : (m : Option Connection) → is_some m ≡ true → IsUnended b (story_on_bus s b m d.next d row)
    on_bus None z = cc
    on_bus (Some m) z = unended_linked s b m d.next d row

    go : (q : Bool)
        → IsUnended b (if q then record b { link = None } else story_on_bus s b b.bus_state.connection d.next d row)
    go true = record { ended = refl; over = refl }
    go false = on_bus b.bus_state.connection e

-- ---- all rows

-- Where no connection stands, no link does.
pub links_stand : (s : ScenarioValue) (rows : List Row) → (run_state s rows).story.bus_state.connection ≡ None
    → (run_state s rows).story.link ≡ None
links_stand s [] h = refl
links_stand s (row ∷ rows) h =
    let b : Story = (run_state s rows).story in
    let d : RowReading = row_reading b.bus_state row in
    events_link s (story_by_change s b d row) (events_of_row s rows row) ∙ change_link s b d row (links_stand s rows) h

pub are_ended : (s : ScenarioValue) (rows : List Row) → AreEnded (run_state s rows).story
are_ended s [] = record { over = λ n. refl }
are_ended s (row ∷ rows) =
    let b : Story = (run_state s rows).story in
    let d : RowReading = row_reading b.bus_state row in
    let x = events_keep s (story_by_change s b d row)
    (events_of_row s rows row) (change_keeps s b d row (are_ended s rows)) in
    record { over = λ n. x.over n }
