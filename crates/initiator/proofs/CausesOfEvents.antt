-- What an event that is shown ends, and what it stops, has that event for its cause.
use Rattle.std.proofs.Common.{ℕ, suc, zero, ◌≡◌, ◌+◌, ◌<◌, Bool, true, false, List, [], ◌∷◌, ◌∙◌, refl, sym, arith}
use Rattle.std.proofs.Common.{Option, Some, None}
use Rattle.std.specs.Prelude.{if◌then◌else◌, not, ◌&&◌, ◌||◌, ◌==◌, ◌++◌}
use Rattle.std.specs.List.{list_any}
use Rattle.std.proofs.lemmas.Bool.{ne_eqb, eq-eqb, or_right, or_left}
use Rattle.bus_base.specs.declared.AbortKind.{AbortKind}
use Rattle.bus_base.specs.declared.AbortKind.TheVariants as aborts
use Rattle.bus_base.specs.declared.Event.{Event}
use Rattle.bus_base.specs.declared.Event.TheVariants as events
use Rattle.bus_base.proofs.Tests.{either_stays}
use Rattle.cdb_codec.specs.declared.status.TheConstants.{CHECK_CONDITION}
use Rattle.scenario.specs.declared.value.CmdDef.{CmdDef}
use Rattle.scenario.specs.declared.value.Payload.TheVariants as payloads
use Rattle.scenario.specs.declared.value.Tag.TheVariants as tags
use Rattle.scenario.specs.Value.{ScenarioValue}
use Rattle.due_model.specs.array_model.specs.Processes.{command_at, same_bool}
use Rattle.story_model.specs.Items.{command_item, sense_item, has_item, is_open, sense_id, command_id}
use Rattle.story_model.specs.Outcomes.{ending_of, has_end}
use Rattle.story_model.specs.Story.{Story, Ending, by_status, by_loss, by_abort, by_reset, unanswered, story_with_over}
use Rattle.story_model.specs.Story.{story_with_end, story_with_ends, is_aborted, is_sense_stopped, story_after_event}
use Rattle.story_model.specs.Story.{story_after_events, story_with_end_if}
use Rattle.initiator.specs.Causes.{has_status, has_loss, has_bus_reset, has_command_abort, has_sense_abort}
use Rattle.initiator.specs.Causes.{has_sense_stop}
use Rattle.initiator_books.proofs.StoryEnds.{ended_if, drops_if, ending_after, AreEnded, event_ends, events_keep}

-- ---- the cause of an ending

abbrev pub has_abort_if : Option CmdDef → List Event → Bool
has_abort_if None history = false
has_abort_if (Some c) history = has_command_abort history c

-- The history has the event by which a command, the n-th, ended so.
abbrev pub has_cause_if : Option CmdDef → ℕ → List Event → Option Ending → Bool
has_cause_if c n history None = true
has_cause_if c n history (Some (by_status status)) = has_status history (command_id n) status
has_cause_if c n history (Some by_loss) = has_loss history (command_id n)
has_cause_if c n history (Some by_reset) = has_bus_reset history
has_cause_if c n history (Some by_abort) = has_abort_if c history
has_cause_if c n history (Some unanswered) = true

cause_stays : (c : Option CmdDef) (n : ℕ) (e : Event) (history : List Event) (old : Option Ending)
    → has_cause_if c n history old ≡ true → has_cause_if c n (e ∷ history) old ≡ true
cause_stays c n e history None h = refl
cause_stays c n e history (Some (by_status status)) h = or_right _ _ h
cause_stays c n e history (Some by_loss) h = or_right _ _ h
cause_stays c n e history (Some by_reset) h = or_right _ _ h
cause_stays None n e history (Some by_abort) h = h
cause_stays (Some c) n e history (Some by_abort) h = or_right _ _ h
cause_stays c n e history (Some unanswered) h = refl

newly : (c : Option CmdDef) (n : ℕ) (history : List Event) (q : Bool) (old : Option Ending) (x : Ending)
    → (q ≡ true → has_cause_if c n history (Some x) ≡ true) → has_cause_if c n history old ≡ true
    → has_cause_if c n history (ended_if q old x) ≡ true
newly c n history true None x now h = now refl
newly c n history true (Some y) x now h = h
newly c n history false old x now h = h

of_status : (x q r y : Bool) → r ≡ true → (not x && q) ≡ true → ((q && same_bool x false) && r || y) ≡ true
of_status true q r y e h = cc
of_status false false r y e h = cc
of_status false true true y e h = refl
of_status false true false y e h = cc

of_loss : (x q y : Bool) → (not x && q) ≡ true → (q && same_bool x false || y) ≡ true
of_loss true q y h = cc
of_loss false false y h = cc
of_loss false true y h = refl

of_abort : (sent : Bool) (host target unit : ℕ) (what : AbortKind) (c : Option CmdDef) (history : List Event)
    → (sent && drops_if (is_aborted host target unit what) c) ≡ true
    → has_abort_if c (events.Aborted host target unit what ∷ history) ≡ true
of_abort false host target unit what c history h = cc
of_abort true host target unit what None history h = cc
of_abort true host target unit what (Some c) history h = or_left _ _ h

event_cause : (c : Option CmdDef) (n : ℕ) (sent : Bool) (e : Event) (history : List Event) (old : Option Ending)
    → has_cause_if c n history old ≡ true → has_cause_if c n (e ∷ history) (ending_after e c sent n old) ≡ true
event_cause c n sent (events.Accept id) history old h = cause_stays c n (events.Accept id) history old h
event_cause c n sent (events.Refuse id) history old h = cause_stays c n (events.Refuse id) history old h
event_cause c n sent (events.Run id) history old h = cause_stays c n (events.Run id) history old h
event_cause c n sent (events.Fail id code) history old h = cause_stays c n (events.Fail id code) history old h
event_cause c n sent (events.End id status) history old h = newly c n (events.End id status ∷ history)
    (not id.sense && id.command == n) old (by_status status) (λ z. of_status id.sense (id.command == n)
    (status == status) (has_status history (command_id n) status) (eq-eqb status status refl) z)
    (cause_stays c n (events.End id status) history old h)
event_cause c n sent (events.Lost id) history old h =
    newly c n (events.Lost id ∷ history) (not id.sense && id.command == n) old by_loss
    (λ z. of_loss id.sense (id.command == n) (has_loss history (command_id n)) z)
    (cause_stays c n (events.Lost id) history old h)
event_cause c n sent (events.Aborted host target unit what) history old h = newly c n
    (events.Aborted host target unit what ∷ history) (sent && drops_if (is_aborted host target unit what) c)
    old by_abort (λ z. of_abort sent host target unit what c history z)
    (cause_stays c n (events.Aborted host target unit what) history old h)
event_cause c n sent (events.Reset dev) history old h =
    newly c n (events.Reset dev ∷ history) (sent && drops_if (λ d. true) c) old by_reset (λ z. refl)
    (cause_stays c n (events.Reset dev) history old h)

pub shown_causes : (s : ScenarioValue) (b : Story) (n : ℕ) (shown history : List Event)
    → AreEnded b → has_cause_if (command_at s.commands n) n history (ending_of b.ended n) ≡ true
    → has_cause_if (command_at s.commands n) n (shown ++ history) (ending_of (story_after_events s b shown).ended n)
    ≡ true
shown_causes s b n [] history a h = h
shown_causes s b n (e ∷ shown) history a h =
    let c : Story = story_after_events s b shown in
    (λ i. has_cause_if (command_at s.commands n) n (e ∷ (shown ++ history))
    (event_ends s c e n (events_keep s b shown a) i))
    ∙ event_cause (command_at s.commands n) n (has_item c.sent.sent (command_item n)) e (shown ++ history)
    (ending_of c.ended n) (shown_causes s b n shown history a h)

-- ---- every command that two tests name, in turn: callings, and what is over

ends_tries : (drops stops : CmdDef → Bool) (e : Ending) (k : ℕ) (commands : List CmdDef) (b : Story)
    → (story_with_ends drops stops e k commands b).sent.tries ≡ b.sent.tries
ends_tries drops stops e k [] b = refl
ends_tries drops stops e k (c ∷ commands) b =
    ends_tries drops stops e (k + 1) commands (story_with_end_if drops stops e k c b)
    ∙ go (is_open b.sent k && drops c) (stops c && list_any (λ j. j == k) b.sent.checks)
  where
    go : (p q : Bool) → (if p then story_with_end b (record { command = k; sense = false }) e
        else if q then story_with_over b (sense_item k) else b).sent.tries ≡ b.sent.tries
    go true q = refl
    go false true = refl
    go false false = refl

step_other : (drops stops : CmdDef → Bool) (e : Ending) (k : ℕ) (c : CmdDef) (b : Story) (n : ℕ) → (k == n) ≡ false
    → has_item (story_with_end_if drops stops e k c b).sent.over (sense_item n) ≡ has_item b.sent.over (sense_item n)
step_other drops stops e k c b n h = go (is_open b.sent k && drops c) (stops c && list_any (λ j. j == k) b.sent.checks)
  where
    go : (p q : Bool) → has_item (if p then story_with_end b (record { command = k; sense = false }) e
        else if q then story_with_over b (sense_item k) else b).sent.over (sense_item n)
        ≡ has_item b.sent.over (sense_item n)
    go true q = λ i. h i && false || has_item b.sent.over (sense_item n)
    go false true = λ i. h i && true || has_item b.sent.over (sense_item n)
    go false false = refl

step_this : (drops stops : CmdDef → Bool) (e : Ending) (k : ℕ) (c : CmdDef) (b : Story)
    → has_item (story_with_end_if drops stops e k c b).sent.over (sense_item k) ≡ true
    → (has_item b.sent.over (sense_item k) || stops c) ≡ true
step_this drops stops e k c b = go (is_open b.sent k && drops c) (stops c) (list_any (λ j. j == k) b.sent.checks)
  where
    not_sense : (q y z : Bool) → (q && false || y) ≡ true → (y || z) ≡ true
    not_sense true y z h = or_left y z h
    not_sense false y z h = or_left y z h

    go : (p t q : Bool) → has_item (if p then story_with_end b (record { command = k; sense = false }) e
        else if t && q then story_with_over b (sense_item k) else b).sent.over (sense_item k) ≡ true
        → (has_item b.sent.over (sense_item k) || t) ≡ true
    go true t q h = not_sense (k == k) (has_item b.sent.over (sense_item k)) t h
    go false true q h = or_right (has_item b.sent.over (sense_item k)) true refl
    go false false q h = or_left (has_item b.sent.over (sense_item k)) false h

earlier : (drops stops : CmdDef → Bool) (e : Ending) (commands : List CmdDef) (b : Story) (k n : ℕ) → n < k
    → has_item (story_with_ends drops stops e k commands b).sent.over (sense_item n)
    ≡ has_item b.sent.over (sense_item n)
earlier drops stops e [] b k n h = refl
earlier drops stops e (c ∷ commands) b k n h =
    earlier drops stops e commands (story_with_end_if drops stops e k c b) (k + 1) n (omega (arith, h))
    ∙ step_other drops stops e k c b n (ne_eqb k n (λ z. omega (arith, z, h)))

stops_from : (drops stops : CmdDef → Bool) (e : Ending) (k : ℕ) (commands : List CmdDef) (b : Story) (j n : ℕ)
    → n ≡ j + k → has_item (story_with_ends drops stops e k commands b).sent.over (sense_item n) ≡ true
    → (has_item b.sent.over (sense_item n) || drops_if stops (command_at commands (suc j))) ≡ true
stops_from drops stops e k [] b j n same h = or_left _ _ h
stops_from drops stops e k (c ∷ commands) b zero n same h =
    let here : n ≡ k = omega (arith, same) in
    let later : has_item
    (story_with_ends drops stops e (k + 1) commands (story_with_end_if drops stops e k c b)).sent.over (sense_item n)
    ≡ has_item (story_with_end_if drops stops e k c b).sent.over (sense_item n) = earlier drops stops e commands
    (story_with_end_if drops stops e k c b) (k + 1) n (omega (arith, same)) in
    (λ i. has_item b.sent.over (sense_item (here i)) || stops c) ∙ step_this drops stops e k c b
    ((λ i. has_item (story_with_end_if drops stops e k c b).sent.over (sense_item (sym here i))) ∙ sym later ∙ h)
stops_from drops stops e k (c ∷ commands) b (suc j) n same h =
    let other : (k == n) ≡ false = ne_eqb k n (λ z. omega (arith, z, same)) in
    (λ i. sym (step_other drops stops e k c b n other) i || drops_if stops (command_at commands (suc j)))
    ∙ stops_from drops stops e (k + 1) commands (story_with_end_if drops stops e k c b) j n (omega (arith, same)) h

stops_at : (drops stops : CmdDef → Bool) (e : Ending) (commands : List CmdDef) (b : Story) (n : ℕ)
    → has_item (story_with_ends drops stops e 1 commands b).sent.over (sense_item n) ≡ true
    → (has_item b.sent.over (sense_item n) || drops_if stops (command_at commands n)) ≡ true
stops_at drops stops e commands b zero h = or_left _ _ (sym (earlier drops stops e commands b 1 0 (omega arith)) ∙ h)
stops_at drops stops e commands b (suc j) h = stops_from drops stops e 1 commands b j (suc j) (omega arith) h

-- ---- the cause why automatic REQUEST SENSE is over

abbrev pub has_sense_abort_if : Option CmdDef → List Event → Bool
has_sense_abort_if None history = false
has_sense_abort_if (Some c) history = has_sense_abort history c

abbrev pub has_sense_cause : Option CmdDef → ℕ → List Event → Bool
has_sense_cause c n history = has_end history (sense_id n)
    || (has_loss history (sense_id n) || (has_bus_reset history || has_sense_abort_if c history))

more_aborts : (c : Option CmdDef) (e : Event) (history : List Event) → has_sense_abort_if c history ≡ true
    → has_sense_abort_if c (e ∷ history) ≡ true
more_aborts None e history h = h
more_aborts (Some c) e history h = or_right _ _ h

sense_cause_stays : (c : Option CmdDef) (n : ℕ) (e : Event) (history : List Event) → has_sense_cause c n history ≡ true
    → has_sense_cause c n (e ∷ history) ≡ true
sense_cause_stays c n e history h = either_stays (has_end history (sense_id n)) _ (has_end (e ∷ history) (sense_id n)) _
    (λ z. or_right _ _ z) (λ x. either_stays (has_loss history (sense_id n)) _ (has_loss (e ∷ history) (sense_id n)) _
    (λ z. or_right _ _ z) (λ y. either_stays (has_bus_reset history) _ (has_bus_reset (e ∷ history)) _
    (λ z. or_right _ _ z) (λ z. more_aborts c e history z) y) x) h

of_sense_abort : (host target unit : ℕ) (what : AbortKind) (c : Option CmdDef) (history : List Event)
    → drops_if (is_sense_stopped host target unit what) c ≡ true
    → has_sense_abort_if c (events.Aborted host target unit what ∷ history) ≡ true
of_sense_abort host target unit what None history h = cc
of_sense_abort host target unit what (Some c) history h = or_left _ _ h

-- What this event adds is over by it, or was over before.
added : (x y : Bool) (P : Bool) → (x ≡ true → P ≡ true) → (y ≡ true → P ≡ true) → (x || y) ≡ true → P ≡ true
added true y P f g h = f refl
added false y P f g h = g h

event_stops : (s : ScenarioValue) (b : Story) (n : ℕ) (e : Event) (history : List Event)
    → (has_item b.sent.over (sense_item n) ≡ true → has_sense_cause (command_at s.commands n) n history ≡ true)
    → has_item (story_after_event s b e).sent.over (sense_item n) ≡ true
    → has_sense_cause (command_at s.commands n) n (e ∷ history) ≡ true
event_stops s b n (events.Accept id) history h x =
    sense_cause_stays (command_at s.commands n) n (events.Accept id) history (h x)
event_stops s b n (events.Refuse id) history h x =
    sense_cause_stays (command_at s.commands n) n (events.Refuse id) history (h x)
event_stops s b n (events.Run id) history h x =
    sense_cause_stays (command_at s.commands n) n (events.Run id) history (h x)
event_stops s b n (events.Fail id code) history h x =
    sense_cause_stays (command_at s.commands n) n (events.Fail id code) history (h x)
event_stops s b n (events.End id status) history h x = added (id.command == n && same_bool id.sense true)
    (has_item b.sent.over (sense_item n)) (has_sense_cause (command_at s.commands n) n (events.End id status ∷ history))
    (λ z. or_left _ _ (or_left _ _ z)) (λ z. sense_cause_stays (command_at s.commands n) n
    (events.End id status) history (h z)) (go (not id.sense && status == CHECK_CONDITION) x)
  where
    go : (q : Bool) → has_item (if q then record (story_with_end b id (by_status status)) {
      sent = record (story_with_end b id (by_status status)).sent { checks = b.sent.checks ++ id.command ∷ [] };
    } else story_with_end b id (by_status status)).sent.over (sense_item n) ≡ true
        → (id.command == n && same_bool id.sense true || has_item b.sent.over (sense_item n)) ≡ true
    go true z = z
    go false z = z
event_stops s b n (events.Lost id) history h x = added (id.command == n && same_bool id.sense true)
    (has_item b.sent.over (sense_item n)) (has_sense_cause (command_at s.commands n) n (events.Lost id ∷ history))
    (λ z. or_right _ _ (or_left _ _ (or_left _ _ z)))
    (λ z. sense_cause_stays (command_at s.commands n) n (events.Lost id) history (h z)) x
event_stops s b n (events.Aborted host target unit what) history h x = added (has_item b.sent.over (sense_item n))
    (drops_if (is_sense_stopped host target unit what) (command_at s.commands n))
    (has_sense_cause (command_at s.commands n) n (events.Aborted host target unit what ∷ history))
    (λ z. sense_cause_stays (command_at s.commands n) n (events.Aborted host target unit what) history (h z))
    (λ z. or_right (has_end (events.Aborted host target unit what ∷ history) (sense_id n)) _
    (or_right (has_loss (events.Aborted host target unit what ∷ history) (sense_id n)) _
    (or_right (has_bus_reset (events.Aborted host target unit what ∷ history)) _
    (of_sense_abort host target unit what (command_at s.commands n) history z))))
    (stops_at (is_aborted host target unit what) (is_sense_stopped host target unit what) by_abort s.commands b n x)
event_stops s b n (events.Reset dev) history h x = or_right _ _ (or_right _ _ refl)

pub shown_stops : (s : ScenarioValue) (b : Story) (n : ℕ) (shown history : List Event)
    → (has_item b.sent.over (sense_item n) ≡ true → has_sense_cause (command_at s.commands n) n history ≡ true)
    → has_item (story_after_events s b shown).sent.over (sense_item n) ≡ true
    → has_sense_cause (command_at s.commands n) n (shown ++ history) ≡ true
shown_stops s b n [] history h = h
shown_stops s b n (e ∷ shown) history h =
    event_stops s (story_after_events s b shown) n e (shown ++ history) (shown_stops s b n shown history h)

-- ---- no event is a calling

event_tries : (s : ScenarioValue) (b : Story) (e : Event) → (story_after_event s b e).sent.tries ≡ b.sent.tries
event_tries s b (events.Accept id) = refl
event_tries s b (events.Refuse id) = refl
event_tries s b (events.Run id) = refl
event_tries s b (events.Fail id code) = refl
event_tries s b (events.End id status) = go (not id.sense && status == CHECK_CONDITION)
  where
    go : (q : Bool) → (if q then record (story_with_end b id (by_status status)) {
      sent = record (story_with_end b id (by_status status)).sent { checks = b.sent.checks ++ id.command ∷ [] };
    } else story_with_end b id (by_status status)).sent.tries ≡ b.sent.tries
    go true = refl
    go false = refl
event_tries s b (events.Lost id) = refl
event_tries s b (events.Aborted host target unit what) =
    ends_tries (is_aborted host target unit what) (is_sense_stopped host target unit what) by_abort 1 s.commands b
event_tries s b (events.Reset dev) = ends_tries (λ c. true) (λ c. true) by_reset 1 s.commands b

pub events_tries : (s : ScenarioValue) (b : Story) (shown : List Event)
    → (story_after_events s b shown).sent.tries ≡ b.sent.tries
events_tries s b [] = refl
events_tries s b (e ∷ shown) = event_tries s (story_after_events s b shown) e ∙ events_tries s b shown

-- ---- the tests of a history, computed

-- Of initiator 7, at unit 1 of target 2, with tag 5.
abbrev tagged : CmdDef
tagged = record { host = 7; target = 2; unit = 1; at = 0; tag = tags.Simple 5; cdb = []; payload = payloads.Nothing }

abbrev ended : List Event
ended =
    events.End (record { command = 2; sense = true }) 0 ∷ events.Lost (record { command = 1; sense = true })
    ∷ events.End (record { command = 1; sense = false }) 2 ∷ events.Lost (record { command = 3; sense = false }) ∷ []

-- A process is a command or its automatic REQUEST SENSE, and a status is one of them.
check_statuses : (has_status ended (command_id 1) 2 ∷ has_status ended (command_id 1) 0
    ∷ has_status ended (sense_id 2) 0 ∷ has_status ended (command_id 2) 0 ∷ []) ≡ true ∷ false ∷ true ∷ false ∷ []
check_statuses = refl

check_losses : (has_loss ended (command_id 3) ∷ has_loss ended (sense_id 3) ∷ has_loss ended (sense_id 1)
    ∷ has_loss ended (command_id 1) ∷ []) ≡ true ∷ false ∷ true ∷ false ∷ []
check_losses = refl

check_resets : (has_bus_reset ended ∷ has_bus_reset (events.Reset 3 ∷ ended) ∷ []) ≡ false ∷ true ∷ []
check_resets = refl

aborted : ℕ → ℕ → ℕ → AbortKind → List Bool
aborted host target unit what = has_command_abort (events.Aborted host target unit what ∷ ended) tagged
    ∷ has_sense_abort (events.Aborted host target unit what ∷ ended) tagged ∷ []

-- ABORT concerns both, ABORT TAG and CLEAR QUEUE the command alone, and BUS DEVICE RESET all at the target.
check_aborts : (aborted 7 2 1 aborts.All ++ aborted 7 2 1 (aborts.Tag 5) ++ aborted 6 2 1 aborts.WholeQueue
    ++ aborted 6 2 0 aborts.Device) ≡ true ∷ true ∷ true ∷ false ∷ true ∷ false ∷ true ∷ true ∷ []
unfolding aborted
check_aborts = refl

-- Of another initiator, unit, tag or target.
check_other_aborts : (aborted 6 2 1 aborts.All ++ aborted 7 2 0 aborts.All ++ aborted 7 2 1 (aborts.Tag 4)
    ++ aborted 7 3 1 aborts.Device) ≡ false ∷ false ∷ false ∷ false ∷ false ∷ false ∷ false ∷ false ∷ []
unfolding aborted
check_other_aborts = refl

check_stops :
    (has_sense_stop ended 1 tagged ∷ has_sense_stop ended 3 tagged ∷ has_sense_stop (events.Reset 3 ∷ ended) 3 tagged
    ∷ has_sense_stop (events.Aborted 7 2 1 aborts.All ∷ ended) 3 tagged ∷ []) ≡ true ∷ false ∷ true ∷ true ∷ []
check_stops = refl
