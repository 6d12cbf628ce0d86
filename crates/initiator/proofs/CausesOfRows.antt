-- How each command ended, row by row: by an event of the history, or by callings in vain.
use Rattle.std.proofs.Common.{ℕ, ◌≡◌, ◌+◌, Bool, true, false, List, [], ◌∷◌, ◌∙◌, refl, sym, subst, arith, Option, Some}
use Rattle.std.proofs.Common.{None}
use Rattle.std.specs.Prelude.{if◌then◌else◌, not, ◌&&◌, ◌||◌, ◌==◌, is_none, nat_lt}
use Rattle.std.proofs.lemmas.Bool.{eqb-true}
use Rattle.std.proofs.lemmas.Bool.Decides.{nat_tests}
use Rattle.bus_base.specs.declared.ProcId.{ProcId}
use Rattle.bus_base.specs.declared.Event.{Event}
use Rattle.bus_base.specs.declared.Event.TheVariants as events
use Rattle.bus_trace.specs.declared.Row.{Row}
use Rattle.bus_trace.specs.declared.connection.Connection.{Connection}
use Rattle.bus_trace.specs.declared.selection.Call.{Call}
use Rattle.bus_trace.specs.declared.selection.Calling.{Calling}
use Rattle.bus_trace.specs.Changes.{rises, falls}
use Rattle.scenario.specs.declared.value.CmdDef.{CmdDef}
use Rattle.scenario.specs.declared.value.HostDef.{HostDef}
use Rattle.scenario.specs.Value.{ScenarioValue}
use Rattle.due_model.specs.array_model.specs.Processes.{command_at, same_bool}
use Rattle.story_model.specs.BusState.{RowReading, row_reading}
use Rattle.story_model.specs.Items.{Item, process, abort, command_item, sense_item, has_item, count_item, is_of_host}
use Rattle.story_model.specs.Items.{sense_id, command_id}
use Rattle.story_model.specs.Links.{link_of}
use Rattle.story_model.specs.Outcomes.{ending_of, has_end}
use Rattle.story_model.specs.Story.{Story, Ending, by_status, by_loss, by_abort, by_reset, unanswered, with_ending}
use Rattle.story_model.specs.Story.{is_aborted, story_after_events}
use Rattle.story_model.specs.TraceHistory.{aim_of, retries_of, story_with_aim, story_without_answer, story_with_try}
use Rattle.story_model.specs.TraceHistory.{story_after_calling, story_after_calling_by, story_on_free_bus}
use Rattle.story_model.specs.TraceHistory.{story_with_restored, story_with_sent, story_after_connection, story_on_bus}
use Rattle.story_model.specs.TraceHistory.{story_by_change}
use Rattle.due_model.specs.Plain.{AreOfDevices}
use Rattle.due_model.specs.RunSteps.{run_state, events_of_row}
use Rattle.initiator.specs.Causes.{has_status, has_loss, has_bus_reset, has_command_abort, has_sense_stop}
use Rattle.initiator_books.specs.Wishes.{IsItemIf, AreAims}
use Rattle.initiator.proofs.CausesOfEvents.{has_cause_if, has_sense_cause, shown_causes, shown_stops, events_tries}
use Rattle.initiator.proofs.OwnedLinks.{aim_own}
use Rattle.initiator_books.proofs.StoryEnds.{first_of, ended_if, drops_if, ending_after, with_ending_at, AreEnded}
use Rattle.initiator_books.proofs.StoryEnds.{IsUnended, event_ends, events_keep, unended_connection, unended_linked}
use Rattle.initiator_books.proofs.StoryEnds.{change_keeps, are_ended}
use Rattle.initiator_books.proofs.Wishes.{kept_connected}
use Rattle.initiator_books.proofs.WishRows.{aims_are}
use Rattle.bus_base.proofs.Tests.{or_other}

-- ---- a row before its events

-- No automatic REQUEST SENSE is over by it, and no calling is forgotten.
record IsGrown (b c : Story) (n : ℕ) : Type 0 where
  pub over : has_item c.sent.over (sense_item n) ≡ has_item b.sent.over (sense_item n)
  pub more : (k : ℕ) → nat_lt k (count_item b.sent.tries (command_item n)) ≡ true
      → nat_lt k (count_item c.sent.tries (command_item n)) ≡ true

-- It ends the command of this number not, or a device called for it in vain once too often.
data Called (s : ScenarioValue) (b c : Story) (n : ℕ) : Type 0 where
  unended : IsGrown b c n → ending_of c.ended n ≡ ending_of b.ended n → Called s b c n
  in_vain : IsGrown b c n → (d : ℕ) → aim_of b.aims d ≡ Some (command_item n)
      → nat_lt (retries_of s.hosts d) (count_item c.sent.tries (command_item n)) ≡ true
      → ending_of c.ended n ≡ first_of (ending_of b.ended n) unanswered → Called s b c n

counts_more : (q : Bool) (k x : ℕ) → nat_lt k x ≡ true → nat_lt k (if q then x + 1 else x) ≡ true
counts_more true k x h = grind (arith, nat_tests)
counts_more false k x h = h

not_sense : (x q y : Bool) → x ≡ false → (q && same_bool x true || y) ≡ y
not_sense true q y h = cc
not_sense false true y h = refl
not_sense false false y h = refl

tried : (b : Story) (i : Item) → Story
tried b i = record b { sent = record b.sent { tries = i ∷ b.sent.tries } }

process_called : (s : ScenarioValue) (b : Story) (d n : ℕ) (id : ProcId) → aim_of b.aims d ≡ Some (process id)
    → Called s b (story_with_try s b d (Some (process id))) n
unfolding tried
process_called s b d n id aim = go id.sense refl
    (nat_lt (retries_of s.hosts d) (count_item (process id ∷ b.sent.tries) (process id))) refl (id.command == n) refl
  where
    more : (k : ℕ) → nat_lt k (count_item b.sent.tries (command_item n)) ≡ true
        → nat_lt k (count_item (process id ∷ b.sent.tries) (command_item n)) ≡ true
    more k h = counts_more (id.command == n && same_bool id.sense false) k (count_item b.sent.tries (command_item n)) h

    known : ending_of (with_ending b.ended id unanswered) n
        ≡ ended_if (not id.sense && id.command == n) (ending_of b.ended n) unanswered
    known = with_ending_at b.ended id unanswered n

    go : (x : Bool) → id.sense ≡ x
        → (r : Bool) → nat_lt (retries_of s.hosts d) (count_item (process id ∷ b.sent.tries) (process id)) ≡ r
        → (q : Bool) → (id.command == n) ≡ q → Called s b
        (if not x && r then story_without_answer (tried b (process id)) (process id) else tried b (process id)) n
    go true e r re q qe = unended (record { over = refl; more = more }) refl
    go false e false re q qe = unended (record { over = refl; more = more }) refl
    go false e true re false qe = unended (record {
      over = not_sense id.sense (id.command == n) (has_item b.sent.over (sense_item n)) e;
      more = more;
    }) (known ∙ (λ i. ended_if (not (e i) && qe i) (ending_of b.ended n) unanswered))
    go false e true re true qe =
        let it : process id ≡ command_item n =
        (λ i. process (record { command = eqb-true id.command n qe i; sense = e i })) in
        in_vain (record {
          over = not_sense id.sense (id.command == n) (has_item b.sent.over (sense_item n)) e;
          more = more;
        }) d (aim ∙ (λ i. Some (it i)))
        ((λ i. nat_lt (retries_of s.hosts d) (count_item (process id ∷ b.sent.tries) (sym it i))) ∙ re)
        (known ∙ (λ i. ended_if (not (e i) && qe i) (ending_of b.ended n) unanswered))

try_called : (s : ScenarioValue) (b : Story) (d n : ℕ) (item : Option Item) → aim_of b.aims d ≡ item
    → Called s b (story_with_try s b d item) n
unfolding tried
try_called s b d n None aim = unended (record { over = refl; more = λ k h. h }) refl
try_called s b d n (Some (process id)) aim = process_called s b d n id aim
try_called s b d n (Some (abort m)) aim =
    go (nat_lt (retries_of s.hosts d) (count_item (abort m ∷ b.sent.tries) (abort m)))
  where
    go : (q : Bool) → Called s b (if q then story_without_answer (tried b (abort m)) (abort m) else tried b (abort m)) n
    go true = unended (record { over = refl; more = λ k h. h }) refl
    go false = unended (record { over = refl; more = λ k h. h }) refl

calling_called : (s : ScenarioValue) (b : Story) (n : ℕ) (c : Option Call) → Called s b (story_after_calling s b c) n
calling_called s b n None = unended (record { over = refl; more = λ k h. h }) refl
calling_called s b n (Some c) = by_calling c.calling
  where
    by_calling : (k : Option Calling) → Called s b (story_after_calling_by s b c.caller k) n
    by_calling None = unended (record { over = refl; more = λ k h. h }) refl
    by_calling (Some k) = go (is_none k.answered && not k.reselects)
      where
        go : (q : Bool) → Called s b (if q then story_with_try s b c.caller (aim_of b.aims c.caller) else b) n
        go true = try_called s b c.caller n (aim_of b.aims c.caller) refl
        go false = unended (record { over = refl; more = λ k h. h }) refl

free_called : (s : ScenarioValue) (b : Story) (n : ℕ) (d : RowReading) (row : Row)
    → Called s b (story_on_free_bus s b d row) n
free_called s b n d row = go (rises d.change.own.bsy d.change.next.bsy && not d.change.before.sel
    && is_none b.bus_state.connection) (falls d.change.before.sel d.change.after.sel)
  where
    go : (p q : Bool)
        → Called s b (if p then story_with_aim s b row else if q then story_after_calling s b b.bus_state.call else b) n
    go true q = unended (record { over = refl; more = λ k h. h }) refl
    go false true = calling_called s b n b.bus_state.call
    go false false = unended (record { over = refl; more = λ k h. h }) refl

-- ---- in a connection, and as it begins or ends

untried : (s : ScenarioValue) (b c : Story) (n : ℕ) → IsUnended b c → c.sent.tries ≡ b.sent.tries → Called s b c n
untried s b c n h t = unended (record {
  over = λ i. has_item (h.over i) (sense_item n);
  more = λ k x. (λ i. nat_lt k (count_item (t i) (command_item n))) ∙ x;
}) (λ i. ending_of (h.ended i) n)

restored_tries : (b : Story) (item : Option Item) → (story_with_restored b item).sent.tries ≡ b.sent.tries
restored_tries b None = refl
restored_tries b (Some (process id)) = refl
restored_tries b (Some (abort k)) = refl

sent_tries : (b : Story) (item : Option Item) → (story_with_sent b item).sent.tries ≡ b.sent.tries
sent_tries b None = refl
sent_tries b (Some item) = refl

connection_tries : (b : Story) (n : Connection) → (story_after_connection b n).sent.tries ≡ b.sent.tries
connection_tries b n = go n.reselected
  where
    go : (p : Bool) → (if p then record b { link = Some (link_of n None) } else story_with_restored
        (story_with_sent (record b { link = Some (link_of n (aim_of b.aims n.initiator)) }) (aim_of b.aims n.initiator))
        (aim_of b.aims n.initiator)).sent.tries ≡ b.sent.tries
    go true = refl
    go false =
        let c : Story = record b { link = Some (link_of n (aim_of b.aims n.initiator)) } in
        restored_tries (story_with_sent c (aim_of b.aims n.initiator)) (aim_of b.aims n.initiator)
        ∙ sent_tries c (aim_of b.aims n.initiator)

change_called : (s : ScenarioValue) (b : Story) (n : ℕ) (d : RowReading) (row : Row)
    → Called s b (story_by_change s b d row) n
change_called s b n d row = go d.change.after.rst
  where
    on_bus : (m k : Option Connection) → Called s b (story_on_bus s b m k d row) n
    on_bus None None = free_called s b n d row
    on_bus None (Some k) = untried s b (story_after_connection b k) n (unended_connection b k) (connection_tries b k)
    on_bus (Some m) None = unended (record { over = refl; more = λ k h. h }) refl
    on_bus (Some m) (Some k) =
        untried s b _ n (unended_linked s b m (Some k) d row) (λ i. ((kept_connected s b b.link d row).sent i).tries)

    go : (q : Bool)
        → Called s b (if q then record b { link = None } else story_on_bus s b b.bus_state.connection d.next d row) n
    go true = unended (record { over = refl; more = λ k h. h }) refl
    go false = on_bus b.bus_state.connection d.next

-- ---- endings by an event

called_causes : (s : ScenarioValue) (b c : Story) (n : ℕ) (k : Option CmdDef) (history : List Event) → Called s b c n
    → has_cause_if k n history (ending_of b.ended n) ≡ true → has_cause_if k n history (ending_of c.ended n) ≡ true
called_causes s b c n k history (unended g e) h = (λ i. has_cause_if k n history (e i)) ∙ h
called_causes s b c n k history (in_vain g d aim t e) h =
    (λ i. has_cause_if k n history (e i)) ∙ go (ending_of b.ended n) h
  where
    go : (old : Option Ending) → has_cause_if k n history old ≡ true
        → has_cause_if k n history (first_of old unanswered) ≡ true
    go None x = refl
    go (Some y) x = x

pub causes_are : (s : ScenarioValue) (rows : List Row) (n : ℕ)
    → has_cause_if (command_at s.commands n) n (run_state s rows).story.history
    (ending_of (run_state s rows).story.ended n) ≡ true
causes_are s [] n = refl
causes_are s (row ∷ rows) n =
    let b : Story = (run_state s rows).story in
    let d : RowReading = row_reading b.bus_state row in
    let c : Story = story_by_change s b d row in
    shown_causes s c n (events_of_row s rows row) b.history (change_keeps s b d row (are_ended s rows))
    (called_causes s b c n (command_at s.commands n) b.history (change_called s b n d row) (causes_are s rows n))

-- ---- automatic REQUEST SENSE

called_over : (s : ScenarioValue) (b c : Story) (n : ℕ) → Called s b c n
    → has_item c.sent.over (sense_item n) ≡ has_item b.sent.over (sense_item n)
called_over s b c n (unended g e) = g.over
called_over s b c n (in_vain g d aim t e) = g.over

pub stops_are : (s : ScenarioValue) (rows : List Row) (n : ℕ)
    → has_item (run_state s rows).story.sent.over (sense_item n) ≡ true
    → has_sense_cause (command_at s.commands n) n (run_state s rows).story.history ≡ true
stops_are s [] n h = cc
stops_are s (row ∷ rows) n h =
    let b : Story = (run_state s rows).story in
    let d : RowReading = row_reading b.bus_state row in
    let c : Story = story_by_change s b d row in
    shown_stops s c n (events_of_row s rows row) b.history
    (λ x. stops_are s rows n (sym (called_over s b c n (change_called s b n d row)) ∙ x)) h

-- ---- callings in vain

abbrev is_tried_out : List HostDef → Option CmdDef → ℕ → List Item → Bool
is_tried_out hosts None n tries = true
is_tried_out hosts (Some c) n tries = nat_lt (retries_of hosts c.host) (count_item tries (command_item n))

-- Where a command, the n-th, ended unanswered, its initiator called for it in vain once too often.
abbrev has_tries_if : List HostDef → Option CmdDef → ℕ → List Item → Option Ending → Bool
has_tries_if hosts k n tries None = true
has_tries_if hosts k n tries (Some (by_status status)) = true
has_tries_if hosts k n tries (Some by_loss) = true
has_tries_if hosts k n tries (Some by_reset) = true
has_tries_if hosts k n tries (Some by_abort) = true
has_tries_if hosts k n tries (Some unanswered) = is_tried_out hosts k n tries

more_tries : (hosts : List HostDef) (k : Option CmdDef) (n : ℕ) (before after : List Item) (e : Option Ending)
    → ((m : ℕ) → nat_lt m (count_item before (command_item n)) ≡ true
    → nat_lt m (count_item after (command_item n)) ≡ true)
    → has_tries_if hosts k n before e ≡ true → has_tries_if hosts k n after e ≡ true
more_tries hosts k n before after None more h = refl
more_tries hosts k n before after (Some (by_status status)) more h = refl
more_tries hosts k n before after (Some by_loss) more h = refl
more_tries hosts k n before after (Some by_reset) more h = refl
more_tries hosts k n before after (Some by_abort) more h = refl
more_tries hosts None n before after (Some unanswered) more h = refl
more_tries hosts (Some c) n before after (Some unanswered) more h = more (retries_of hosts c.host) h

called_tries : (s : ScenarioValue) (b c : Story) (n : ℕ) → AreAims s b.aims → Called s b c n
    → has_tries_if s.hosts (command_at s.commands n) n b.sent.tries (ending_of b.ended n) ≡ true
    → has_tries_if s.hosts (command_at s.commands n) n c.sent.tries (ending_of c.ended n) ≡ true
called_tries s b c n a (unended g e) h =
    more_tries s.hosts (command_at s.commands n) n b.sent.tries c.sent.tries (ending_of c.ended n) g.more
    ((λ i. has_tries_if s.hosts (command_at s.commands n) n b.sent.tries (e i)) ∙ h)
called_tries s b c n a (in_vain g d aim t e) h =
    (λ i. has_tries_if s.hosts (command_at s.commands n) n c.sent.tries (e i)) ∙ go (ending_of b.ended n)
    (more_tries s.hosts (command_at s.commands n) n b.sent.tries c.sent.tries (ending_of b.ended n) g.more h)
  where
    own : is_of_host (command_at s.commands n) d ≡ true
    own = subst (λ (x : Option Item). IsItemIf s d x) aim (aim_own s b.aims d a)

    now : (k : Option CmdDef) → is_of_host k d ≡ true → has_tries_if s.hosts k n c.sent.tries (Some unanswered) ≡ true
    now None x = refl
    now (Some k) x =
        (λ i. nat_lt (retries_of s.hosts (eqb-true k.host d x i)) (count_item c.sent.tries (command_item n))) ∙ t

    go : (old : Option Ending) → has_tries_if s.hosts (command_at s.commands n) n c.sent.tries old ≡ true
        → has_tries_if s.hosts (command_at s.commands n) n c.sent.tries (first_of old unanswered) ≡ true
    go None x = now (command_at s.commands n) own
    go (Some y) x = x

ended_tries :
    (hosts : List HostDef) (k : Option CmdDef) (n : ℕ) (tries : List Item) (q : Bool) (old : Option Ending) (x : Ending)
    → has_tries_if hosts k n tries (Some x) ≡ true → has_tries_if hosts k n tries old ≡ true
    → has_tries_if hosts k n tries (ended_if q old x) ≡ true
ended_tries hosts k n tries true None x now h = now
ended_tries hosts k n tries true (Some y) x now h = h
ended_tries hosts k n tries false old x now h = h

event_tried : (hosts : List HostDef) (k : Option CmdDef) (n : ℕ)
    (tries : List Item) (sent : Bool) (e : Event) (old : Option Ending)
    → has_tries_if hosts k n tries old ≡ true → has_tries_if hosts k n tries (ending_after e k sent n old) ≡ true
event_tried hosts k n tries sent (events.Accept id) old h = h
event_tried hosts k n tries sent (events.Refuse id) old h = h
event_tried hosts k n tries sent (events.Run id) old h = h
event_tried hosts k n tries sent (events.Fail id code) old h = h
event_tried hosts k n tries sent (events.End id status) old h =
    ended_tries hosts k n tries (not id.sense && id.command == n) old (by_status status) refl h
event_tried hosts k n tries sent (events.Lost id) old h =
    ended_tries hosts k n tries (not id.sense && id.command == n) old by_loss refl h
event_tried hosts k n tries sent (events.Aborted host target unit what) old h =
    ended_tries hosts k n tries (sent && drops_if (is_aborted host target unit what) k) old by_abort refl h
event_tried hosts k n tries sent (events.Reset dev) old h =
    ended_tries hosts k n tries (sent && drops_if (λ c. true) k) old by_reset refl h

shown_tried : (s : ScenarioValue) (b : Story) (n : ℕ) (tries : List Item) (shown : List Event)
    → AreEnded b → has_tries_if s.hosts (command_at s.commands n) n tries (ending_of b.ended n) ≡ true
    → has_tries_if s.hosts (command_at s.commands n) n tries (ending_of (story_after_events s b shown).ended n) ≡ true
shown_tried s b n tries [] a h = h
shown_tried s b n tries (e ∷ shown) a h =
    let c : Story = story_after_events s b shown in
    (λ i. has_tries_if s.hosts (command_at s.commands n) n tries (event_ends s c e n (events_keep s b shown a) i))
    ∙ event_tried s.hosts (command_at s.commands n) n tries (has_item c.sent.sent (command_item n)) e
    (ending_of c.ended n) (shown_tried s b n tries shown a h)

pub tries_are : (s : ScenarioValue) (rows : List Row) (n : ℕ) → AreOfDevices rows
    → has_tries_if s.hosts (command_at s.commands n) n (run_state s rows).story.sent.tries
    (ending_of (run_state s rows).story.ended n) ≡ true
tries_are s [] n x = refl
tries_are s (row ∷ rows) n x =
    let b : Story = (run_state s rows).story in
    let d : RowReading = row_reading b.bus_state row in
    let c : Story = story_by_change s b d row in
    let shown : List Event = events_of_row s rows row in
    (λ i. has_tries_if s.hosts (command_at s.commands n) n
    (events_tries s c shown i) (ending_of (run_state s (row ∷ rows)).story.ended n))
    ∙ shown_tried s c n c.sent.tries shown (change_keeps s b d row (are_ended s rows))
    (called_tries s b c n (aims_are s rows x.1) (change_called s b n d row) (tries_are s rows n x.1))

-- ---- the causes

pub status_cause : (s : ScenarioValue) (rows : List Row) (n status : ℕ)
    → ending_of (run_state s rows).story.ended n ≡ Some (by_status status)
    → has_status (run_state s rows).story.history (command_id n) status ≡ true
status_cause s rows n status e =
    (λ i. has_cause_if (command_at s.commands n) n (run_state s rows).story.history (sym e i)) ∙ causes_are s rows n

pub loss_cause : (s : ScenarioValue) (rows : List Row) (n : ℕ)
    → ending_of (run_state s rows).story.ended n ≡ Some by_loss
    → has_loss (run_state s rows).story.history (command_id n) ≡ true
loss_cause s rows n e =
    (λ i. has_cause_if (command_at s.commands n) n (run_state s rows).story.history (sym e i)) ∙ causes_are s rows n

pub reset_cause : (s : ScenarioValue) (rows : List Row) (n : ℕ)
    → ending_of (run_state s rows).story.ended n ≡ Some by_reset → has_bus_reset (run_state s rows).story.history ≡ true
reset_cause s rows n e =
    (λ i. has_cause_if (command_at s.commands n) n (run_state s rows).story.history (sym e i)) ∙ causes_are s rows n

pub abort_cause : (s : ScenarioValue) (rows : List Row) (n : ℕ) (c : CmdDef)
    → command_at s.commands n ≡ Some c → ending_of (run_state s rows).story.ended n ≡ Some by_abort
    → has_command_abort (run_state s rows).story.history c ≡ true
abort_cause s rows n c k e =
    (λ i. has_cause_if (sym k i) n (run_state s rows).story.history (sym e i)) ∙ causes_are s rows n

pub unanswered_cause : (s : ScenarioValue) (rows : List Row) (n : ℕ) (c : CmdDef) → AreOfDevices rows
    → command_at s.commands n ≡ Some c → ending_of (run_state s rows).story.ended n ≡ Some unanswered
    → nat_lt (retries_of s.hosts c.host) (count_item (run_state s rows).story.sent.tries (command_item n)) ≡ true
unanswered_cause s rows n c d k e =
    (λ i. has_tries_if s.hosts (sym k i) n (run_state s rows).story.sent.tries (sym e i)) ∙ tries_are s rows n d

pub sense_cause : (s : ScenarioValue) (rows : List Row) (n : ℕ) (c : CmdDef)
    → command_at s.commands n ≡ Some c → has_item (run_state s rows).story.sent.over (sense_item n) ≡ true
    → has_end (run_state s rows).story.history (sense_id n) ≡ false
    → has_sense_stop (run_state s rows).story.history n c ≡ true
sense_cause s rows n c k o e =
    or_other (has_end (run_state s rows).story.history (sense_id n)) _ e
    ((λ i. has_sense_cause (sym k i) n (run_state s rows).story.history) ∙ stops_are s rows n o)
