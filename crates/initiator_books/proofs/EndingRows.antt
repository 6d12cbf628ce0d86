-- How each command of an initiator's own ended goes on row by row.
use Rattle.std.proofs.Common.{ℕ, suc, zero, ◌≡◌, ◌≢◌, ◌+◌, ◌<◌, Bool, true, false, List, [], ◌∷◌, ◌∙◌, refl, sym, ap}
use Rattle.std.proofs.Common.{subst, arith, length, set, replicate, Option, Some, None}
use Rattle.std.specs.Prelude.{if◌then◌else◌, not, ◌&&◌, ◌||◌, ◌==◌, ◌++◌, is_some, is_none, map}
use Rattle.std.proofs.lemmas.Bool.{ne_eqb, eq-eqb, eqb-true, eqb-false}
use Rattle.std.proofs.lemmas.List.{get_or-set_same, get_or-set_other, length-set, length-replicate}
use Rattle.std.proofs.lemmas.List.Folds.{list_any-append}
use Rattle.bus_base.specs.declared.AbortKind.TheVariants as aborts
use Rattle.bus_base.specs.declared.Event.{Event}
use Rattle.bus_base.specs.declared.Event.TheVariants as events
use Rattle.bus_base.proofs.Tests.{or_later}
use Rattle.bus_trace.specs.declared.Row.{Row}
use Rattle.bus_trace.specs.declared.selection.Call.{Call}
use Rattle.bus_trace.specs.Terms.{connection}
use Rattle.scenario.specs.declared.value.CmdDef.{CmdDef}
use Rattle.scenario.specs.Value.{ScenarioValue}
use Rattle.array_model.specs.Processes.{command_at, same_bool}
use Rattle.story_model.specs.BusState.{RowReading, row_reading}
use Rattle.story_model.specs.Items.{Item, process, command_item, has_item, Sent, is_of_host, sense_id}
use Rattle.story_model.specs.Outcomes.{ending_of, has_end, is_end_of}
use Rattle.story_model.specs.Story as told
use Rattle.story_model.specs.Story.{Story, by_status, by_loss, by_abort, by_reset, unanswered, is_aborted}
use Rattle.story_model.specs.Story.{story_after_event, story_after_events}
use Rattle.story_model.specs.TraceHistory.{aim_of, story_by_change}
use Rattle.story_model.proofs.StorySteps.{events_sent}
use Rattle.due_model.specs.Plain.{IsPlain, AreOfDevices}
use Rattle.due_model.specs.RunSteps.{run_state, events_of_row}
use Rattle.due_model.specs.Wants.{own_command, own_commands}
use Rattle.initiator_books.specs.declared.endings.CommandEnd.{CommandEnd}
use Rattle.initiator_books.specs.declared.endings.Ending.{Ending}
use Rattle.initiator_books.specs.declared.endings.Ending.TheVariants as ends
use Rattle.initiator_books.specs.declared.mine.Mine.{Mine}
use Rattle.initiator_books.specs.declared.mine.OwnItem.{OwnItem}
use Rattle.initiator_books.specs.declared.mine.OwnItem.TheVariants as own
use Rattle.initiator_books.specs.Mines.{mine_of, mines_of}
use Rattle.initiator_books.specs.Books.{my_book, item_if}
use Rattle.initiator_books.specs.Openings.{mine_at}
use Rattle.initiator_books.specs.Wishes.{IsItemIf}
use Rattle.initiator_books.specs.Endings.{no_end, ended_so, with_sense_end, end_at, ends_with, ends_with_sense}
use Rattle.initiator_books.specs.Endings.{is_named, ends_of_mines, ends_after_event, ends_after_events, is_over}
use Rattle.initiator_books.specs.Endings.{ends_after_calling, ends_after, told_ending, told_ending_if, AreEndingsOf}
use Rattle.initiator_books.proofs.Foreign.{no_host_first}
use Rattle.initiator_books.proofs.StoryEnds.{first_of, ended_if, drops_if, ending_after, AreEnded, IsUnended, Calls}
use Rattle.initiator_books.proofs.StoryEnds.{same, vain, event_ends, events_keep, change_calls, change_keeps}
use Rattle.initiator_books.proofs.StoryEnds.{shown_unended, linked_unended, links_stand, are_ended}
use Rattle.initiator_books.proofs.Wishes.{IsCaller}
use Rattle.initiator_books.proofs.WishRows.{aims_are, callers_are}
use Rattle.initiator_books.proofs.HeldSteps.{in_range}
use Rattle.initiator_books.proofs.Mines.{mines_from}
use Rattle.due_model.specs.dialogue_model.specs.Events.{is_empty}

-- ---- look-ups

put_at : (v : List CommandEnd) (k n : ℕ) (x : CommandEnd) → n < length v
    → end_at (set v k x) n ≡ (if k == n then x else end_at v n)
put_at v k n x l = go (k == n) refl
  where
    go : (y : Bool) → (k == n) ≡ y → end_at (set v k x) n ≡ (if y then x else end_at v n)
    go true e =
        let here : k ≡ n = eqb-true k n e in
        let within : k < length v = (let z = here in omega arith) in
        (λ i. end_at (set v k x) (sym here i)) ∙ get_or-set_same v k x no_end within
    go false e = let other : n ≢ k = (λ z. eqb-false k n e (sym z)) in get_or-set_other v k n x no_end other

pub with_at : (v : List CommandEnd) (k n : ℕ) (e : Ending) → n < length v
    → end_at (ends_with v k e) n ≡ (if k == n then ended_so e (end_at v n) else end_at v n)
with_at v k n e l = put_at v k n (ended_so e (end_at v k)) l ∙ go (k == n) refl
  where
    go : (y : Bool) → (k == n) ≡ y
        → (if y then ended_so e (end_at v k) else end_at v n) ≡ (if y then ended_so e (end_at v n) else end_at v n)
    go true z = λ i. ended_so e (end_at v (eqb-true k n z i))
    go false z = refl

pub with_sense_at : (v : List CommandEnd) (k n : ℕ) → n < length v
    → end_at (ends_with_sense v k) n ≡ (if k == n then with_sense_end (end_at v n) else end_at v n)
with_sense_at v k n l = put_at v k n (with_sense_end (end_at v k)) l ∙ go (k == n) refl
  where
    go : (y : Bool) → (k == n) ≡ y → (if y then with_sense_end (end_at v k) else end_at v n)
        ≡ (if y then with_sense_end (end_at v n) else end_at v n)
    go true z = λ i. with_sense_end (end_at v (eqb-true k n z i))
    go false z = refl

with_length : (v : List CommandEnd) (k : ℕ) (e : Ending) → length (ends_with v k e) ≡ length v
with_length v k e = length-set v k (ended_so e (end_at v k))

sense_length : (v : List CommandEnd) (k : ℕ) → length (ends_with_sense v k) ≡ length v
sense_length v k = length-set v k (with_sense_end (end_at v k))

-- ---- an ending, as it is told

-- What is known of the ending of a command.
abbrev ending_at : List CommandEnd → ℕ → Option told.Ending
ending_at v n = told_ending_if (end_at v n).ending

so_told : (e : Ending) (x : CommandEnd)
    → told_ending_if (ended_so e x).ending ≡ first_of (told_ending_if x.ending) (told_ending e)
so_told e x = go x.ending
  where
    go : (o : Option Ending)
        → told_ending_if (if is_none o then record x { ending = Some e } else record x { ending = o }).ending
        ≡ first_of (told_ending_if o) (told_ending e)
    go None = refl
    go (Some z) = refl

with_told : (v : List CommandEnd) (k n : ℕ) (e : Ending) → n < length v
    → ending_at (ends_with v k e) n ≡ ended_if (k == n) (ending_at v n) (told_ending e)
with_told v k n e l = (λ i. told_ending_if (with_at v k n e l i).ending) ∙ go (k == n)
  where
    go : (q : Bool) → told_ending_if (if q then ended_so e (end_at v n) else end_at v n).ending
        ≡ ended_if q (told_ending_if (end_at v n).ending) (told_ending e)
    go true = so_told e (end_at v n)
    go false = refl

sense_told : (v : List CommandEnd) (k n : ℕ) → n < length v → ending_at (ends_with_sense v k) n ≡ ending_at v n
sense_told v k n l = (λ i. told_ending_if (with_sense_at v k n l i).ending) ∙ go (k == n)
  where
    go : (q : Bool) → told_ending_if (if q then with_sense_end (end_at v n) else end_at v n).ending
        ≡ told_ending_if (end_at v n).ending
    go true = refl
    go false = refl

-- ---- all of its own that an event concerns

abbrev named_if : Event → Option CmdDef → Bool
named_if event None = false
named_if (events.Aborted host target unit what) (Some c) = is_aborted host target unit what c
named_if (events.Reset dev) (Some c) = true
named_if _ (Some c) = false

-- Of a mine and of a command this is one test.
named_same : (event : Event) (b : Sent) (k : ℕ) (c : CmdDef)
    → is_named event (mine_of b.checks (own_command b k c)) ≡ named_if event (Some c)
named_same (events.Aborted host target unit aborts.All) b k c = refl
named_same (events.Aborted host target unit (aborts.Tag n)) b k c = refl
named_same (events.Aborted host target unit aborts.WholeQueue) b k c = refl
named_same (events.Aborted host target unit aborts.Device) b k c = refl
named_same (events.Reset dev) b k c = refl
named_same (events.Accept id) b k c = refl
named_same (events.Refuse id) b k c = refl
named_same (events.Run id) b k c = refl
named_same (events.Fail id code) b k c = refl
named_same (events.End id status) b k c = refl
named_same (events.Lost id) b k c = refl

mines_length : (event : Event) (e : Ending) (mines : List Mine) (v : List CommandEnd)
    → length (ends_of_mines event e mines v) ≡ length v
mines_length event e [] v = refl
mines_length event e (m ∷ mines) v =
    mines_length event e mines (if m.sent && is_named event m then ends_with v m.number e else v)
    ∙ go (m.sent && is_named event m)
  where
    go : (q : Bool) → length (if q then ends_with v m.number e else v) ≡ length v
    go true = with_length v m.number e
    go false = refl

below : (event : Event) (e : Ending) (b : Sent) (dev k : ℕ) (commands : List CmdDef) (n : ℕ) (v : List CommandEnd)
    → n < length v → n < k → ending_at (ends_of_mines event e (mines_from b dev k commands) v) n ≡ ending_at v n
below event e b dev k [] n v l h = refl
below event e b dev k (c ∷ commands) n v l h =
    go (λ w x. below event e b dev (k + 1) commands n w x (omega (arith, h))) (c.host == dev)
  where
    one : ((w : List CommandEnd) → n < length w
        → ending_at (ends_of_mines event e (map (mine_of b.checks) (own_commands b dev (k + 1) commands)) w) n
        ≡ ending_at w n) → (q : Bool)
        → ending_at (ends_of_mines event e (map (mine_of b.checks) (own_commands b dev (k + 1) commands))
        (if q then ends_with v k e else v)) n ≡ ending_at v n
    one rest true =
        rest (ends_with v k e) (subst (λ (z : ℕ). n < z) (sym (with_length v k e)) l)
        ∙ with_told v k n e l
        ∙ (λ i. ended_if (ne_eqb k n (λ z. omega (arith, z, h)) i) (ending_at v n) (told_ending e))
    one rest false = rest v l

    go : ((w : List CommandEnd) → n < length w
        → ending_at (ends_of_mines event e (map (mine_of b.checks) (own_commands b dev (k + 1) commands)) w) n
        ≡ ending_at w n) → (q : Bool) → ending_at (ends_of_mines event e (map (mine_of b.checks)
        (if q then own_command b k c ∷ own_commands b dev (k + 1) commands else own_commands b dev (k + 1) commands)) v)
        n ≡ ending_at v n
    go rest true = one rest (has_item b.sent (command_item k) && is_named event (mine_of b.checks (own_command b k c)))
    go rest false = rest v l

from : (event : Event) (e : Ending) (b : Sent) (dev k : ℕ) (commands : List CmdDef) (j n : ℕ) (v : List CommandEnd)
    → n < length v → n ≡ j + k → is_of_host (command_at commands (suc j)) dev ≡ true
    → ending_at (ends_of_mines event e (mines_from b dev k commands) v) n ≡ ended_if
    (has_item b.sent (command_item n) && named_if event (command_at commands (suc j))) (ending_at v n) (told_ending e)
from event e b dev k [] j n v l s h = cc
from event e b dev k (c ∷ commands) zero n v l s h = (λ i. ending_at (ends_of_mines event e (map (mine_of b.checks)
    (if h i then own_command b k c ∷ own_commands b dev (k + 1) commands else own_commands b dev (k + 1) commands)) v)
    n) ∙ one (has_item b.sent (command_item k) && is_named event (mine_of b.checks (own_command b k c)))
    ∙ (λ i. ended_if (has_item b.sent (command_item (here i)) && named_same event b k c i) (ending_at v n)
    (told_ending e))
  where
    here : k ≡ n
    here = omega (arith, s)

    rest : (w : List CommandEnd) → n < length w
        → ending_at (ends_of_mines event e (mines_from b dev (k + 1) commands) w) n ≡ ending_at w n
    rest w x = below event e b dev (k + 1) commands n w x (omega (arith, s))

    one : (q : Bool) → ending_at (ends_of_mines event e (map (mine_of b.checks) (own_commands b dev (k + 1) commands))
        (if q then ends_with v k e else v)) n ≡ ended_if q (ending_at v n) (told_ending e)
    one true =
        rest (ends_with v k e) (subst (λ (z : ℕ). n < z) (sym (with_length v k e)) l)
        ∙ with_told v k n e l
        ∙ (λ i. ended_if (eq-eqb k n here i) (ending_at v n) (told_ending e))
    one false = rest v l
from event e b dev k (c ∷ commands) (suc j) n v l s h =
    go (λ w x. from event e b dev (k + 1) commands j n w x (omega (arith, s)) h) (c.host == dev)
  where
    one : ((w : List CommandEnd) → n < length w
        → ending_at (ends_of_mines event e (map (mine_of b.checks) (own_commands b dev (k + 1) commands)) w) n
        ≡ ended_if (has_item b.sent (command_item n) && named_if event (command_at commands (suc j)))
        (ending_at w n) (told_ending e)) → (q : Bool) → ending_at (ends_of_mines event e
        (map (mine_of b.checks) (own_commands b dev (k + 1) commands)) (if q then ends_with v k e else v)) n
        ≡ ended_if (has_item b.sent (command_item n) && named_if event (command_at commands (suc j))) (ending_at v n)
        (told_ending e)
    one rest true = rest (ends_with v k e) (subst (λ (z : ℕ). n < z) (sym (with_length v k e)) l) ∙ (λ i. ended_if
        (has_item b.sent (command_item n) && named_if event (command_at commands (suc j))) ((with_told v k n e l
        ∙ (λ y. ended_if (ne_eqb k n (λ z. omega (arith, z, s)) y) (ending_at v n) (told_ending e))) i) (told_ending e))
    one rest false = rest v l

    go : ((w : List CommandEnd) → n < length w
        → ending_at (ends_of_mines event e (map (mine_of b.checks) (own_commands b dev (k + 1) commands)) w) n
        ≡ ended_if (has_item b.sent (command_item n) && named_if event (command_at commands (suc j)))
        (ending_at w n) (told_ending e)) → (q : Bool) → ending_at (ends_of_mines event e (map (mine_of b.checks)
        (if q then own_command b k c ∷ own_commands b dev (k + 1) commands else own_commands b dev (k + 1) commands)) v)
        n ≡ ended_if (has_item b.sent (command_item n) && named_if event (command_at commands (suc j))) (ending_at v n)
        (told_ending e)
    go rest true = one rest (has_item b.sent (command_item k) && is_named event (mine_of b.checks (own_command b k c)))
    go rest false = rest v l

mines_told : (event : Event) (e : Ending) (b : Sent) (dev : ℕ) (commands : List CmdDef) (n : ℕ) (v : List CommandEnd)
    → n < length v → is_of_host (command_at commands n) dev ≡ true
    → ending_at (ends_of_mines event e (mines_of b dev commands) v) n ≡ ended_if
    (has_item b.sent (command_item n) && named_if event (command_at commands n)) (ending_at v n) (told_ending e)
mines_told event e b dev commands zero v l h = none_some (sym (no_host_first commands dev) ∙ h)
  where
    none_some : false ≡ true → ending_at (ends_of_mines event e (mines_of b dev commands) v) 0 ≡ ended_if
        (has_item b.sent (command_item 0) && named_if event (command_at commands 0)) (ending_at v 0) (told_ending e)
    none_some z = cc
mines_told event e b dev commands (suc j) v l h = from event e b dev 1 commands j (suc j) v l (omega arith) h

-- ---- events

own_told : (event : Event) (b : Sent) (dev : ℕ) (commands : List CmdDef) (n : ℕ) (v : List CommandEnd)
    → n < length v → is_of_host (command_at commands n) dev ≡ true
    → ending_at (ends_after_event (mines_of b dev commands) v event) n
    ≡ ending_after event (command_at commands n) (has_item b.sent (command_item n)) n (ending_at v n)
own_told (events.Accept id) b dev commands n v l h = refl
own_told (events.Refuse id) b dev commands n v l h = refl
own_told (events.Run id) b dev commands n v l h = refl
own_told (events.Fail id code) b dev commands n v l h = refl
own_told (events.End id status) b dev commands n v l h = go id.sense
  where
    go : (x : Bool)
        → ending_at (if x then ends_with_sense v id.command else ends_with v id.command (ends.Status status)) n
        ≡ ended_if (not x && id.command == n) (ending_at v n) (by_status status)
    go true = sense_told v id.command n l
    go false = with_told v id.command n (ends.Status status) l
own_told (events.Lost id) b dev commands n v l h = go id.sense
  where
    go : (x : Bool) → ending_at (if x then v else ends_with v id.command ends.Loss) n
        ≡ ended_if (not x && id.command == n) (ending_at v n) by_loss
    go true = refl
    go false = with_told v id.command n ends.Loss l
own_told (events.Aborted host target unit what) b dev commands n v l h =
    mines_told (events.Aborted host target unit what) ends.Abort b dev commands n v l h
    ∙ (λ i. ended_if (has_item b.sent (command_item n) && one_test (command_at commands n) i) (ending_at v n) by_abort)
  where
    one_test : (c : Option CmdDef)
        → named_if (events.Aborted host target unit what) c ≡ drops_if (is_aborted host target unit what) c
    one_test None = refl
    one_test (Some c) = refl
own_told (events.Reset d) b dev commands n v l h =
    mines_told (events.Reset d) ends.Reset b dev commands n v l h
    ∙ (λ i. ended_if (has_item b.sent (command_item n) && one_test (command_at commands n) i) (ending_at v n) by_reset)
  where
    one_test : (c : Option CmdDef) → named_if (events.Reset d) c ≡ drops_if (λ x. true) c
    one_test None = refl
    one_test (Some c) = refl

event_told : (s : ScenarioValue) (b : Story) (d : Sent) (dev n : ℕ) (v : List CommandEnd) (event : Event)
    → n < length v → is_of_host (command_at s.commands n) dev ≡ true
    → d.sent ≡ b.sent.sent → AreEnded b → ending_at v n ≡ ending_of b.ended n
    → ending_at (ends_after_event (mines_of d dev s.commands) v event) n
    ≡ ending_of (story_after_event s b event).ended n
event_told s b d dev n v event l h same_sent a e =
    own_told event d dev s.commands n v l h
    ∙ (λ i. ending_after event (command_at s.commands n) (has_item (same_sent i) (command_item n)) n (e i))
    ∙ sym (event_ends s b event n a)

event_length : (mines : List Mine) (v : List CommandEnd) (event : Event)
    → length (ends_after_event mines v event) ≡ length v
event_length mines v (events.Accept id) = refl
event_length mines v (events.Refuse id) = refl
event_length mines v (events.Run id) = refl
event_length mines v (events.Fail id code) = refl
event_length mines v (events.End id status) = go id.sense
  where
    go : (x : Bool)
        → length (if x then ends_with_sense v id.command else ends_with v id.command (ends.Status status)) ≡ length v
    go true = sense_length v id.command
    go false = with_length v id.command (ends.Status status)
event_length mines v (events.Lost id) = go id.sense
  where
    go : (x : Bool) → length (if x then v else ends_with v id.command ends.Loss) ≡ length v
    go true = refl
    go false = with_length v id.command ends.Loss
event_length mines v (events.Aborted host target unit what) =
    mines_length (events.Aborted host target unit what) ends.Abort mines v
event_length mines v (events.Reset dev) = mines_length (events.Reset dev) ends.Reset mines v

events_length : (mines : List Mine) (v : List CommandEnd) (shown : List Event)
    → length (ends_after_events mines v shown) ≡ length v
events_length mines v [] = refl
events_length mines v (e ∷ shown) = event_length mines (ends_after_events mines v shown) e ∙ events_length mines v shown

events_told : (s : ScenarioValue) (b : Story) (d : Sent) (dev n : ℕ) (v : List CommandEnd) (shown : List Event)
    → n < length v → is_of_host (command_at s.commands n) dev ≡ true
    → d.sent ≡ b.sent.sent → AreEnded b → ending_at v n ≡ ending_of b.ended n
    → ending_at (ends_after_events (mines_of d dev s.commands) v shown) n
    ≡ ending_of (story_after_events s b shown).ended n
events_told s b d dev n v [] l h same_sent a e = e
events_told s b d dev n v (event ∷ shown) l h same_sent a e = event_told s (story_after_events s b shown) d dev n
    (ends_after_events (mines_of d dev s.commands) v shown) event (subst (λ (z : ℕ). n < z)
    (sym (events_length (mines_of d dev s.commands) v shown)) l) h (same_sent ∙ sym (events_sent s b shown))
    (events_keep s b shown a) (events_told s b d dev n v shown l h same_sent a e)

-- ---- automatic REQUEST SENSE

so_sense : (e : Ending) (x : CommandEnd) → (ended_so e x).sense_ended ≡ x.sense_ended
so_sense e x = go (is_none x.ending)
  where
    go : (q : Bool) → (if q then record x { ending = Some e } else x).sense_ended ≡ x.sense_ended
    go true = refl
    go false = refl

with_sense : (v : List CommandEnd) (k n : ℕ) (e : Ending) → n < length v
    → (end_at (ends_with v k e) n).sense_ended ≡ (end_at v n).sense_ended
with_sense v k n e l = (λ i. (with_at v k n e l i).sense_ended) ∙ go (k == n)
  where
    go : (q : Bool) → (if q then ended_so e (end_at v n) else end_at v n).sense_ended ≡ (end_at v n).sense_ended
    go true = so_sense e (end_at v n)
    go false = refl

mines_sense : (event : Event) (e : Ending) (mines : List Mine) (v : List CommandEnd) (n : ℕ) → n < length v
    → (end_at (ends_of_mines event e mines v) n).sense_ended ≡ (end_at v n).sense_ended
mines_sense event e [] v n l = refl
mines_sense event e (m ∷ mines) v n l = go (m.sent && is_named event m) (λ w x. mines_sense event e mines w n x)
  where
    go : (q : Bool) → ((w : List CommandEnd) → n < length w
        → (end_at (ends_of_mines event e mines w) n).sense_ended ≡ (end_at w n).sense_ended)
        → (end_at (ends_of_mines event e mines (if q then ends_with v m.number e else v)) n).sense_ended
        ≡ (end_at v n).sense_ended
    go true r = r (ends_with v m.number e) (subst (λ (z : ℕ). n < z) (sym (with_length v m.number e)) l)
        ∙ with_sense v m.number n e l
    go false r = r v l

event_sense : (mines : List Mine) (v : List CommandEnd) (n : ℕ) (event : Event) → n < length v
    → (end_at (ends_after_event mines v event) n).sense_ended
    ≡ (is_end_of (sense_id n) event || (end_at v n).sense_ended)
event_sense mines v n (events.Accept id) l = refl
event_sense mines v n (events.Refuse id) l = refl
event_sense mines v n (events.Run id) l = refl
event_sense mines v n (events.Fail id code) l = refl
event_sense mines v n (events.End id status) l = go id.sense
  where
    one : (q : Bool)
        → (if q then with_sense_end (end_at v n) else end_at v n).sense_ended ≡ (q && true || (end_at v n).sense_ended)
    one true = refl
    one false = refl

    none : (q : Bool) → (end_at v n).sense_ended ≡ (q && false || (end_at v n).sense_ended)
    none true = refl
    none false = refl

    go : (x : Bool) → (end_at (if x then ends_with_sense v id.command else ends_with v id.command (ends.Status status))
        n).sense_ended ≡ (id.command == n && same_bool x true || (end_at v n).sense_ended)
    go true = (λ i. (with_sense_at v id.command n l i).sense_ended) ∙ one (id.command == n)
    go false = with_sense v id.command n (ends.Status status) l ∙ none (id.command == n)
event_sense mines v n (events.Lost id) l = go id.sense
  where
    go : (x : Bool)
        → (end_at (if x then v else ends_with v id.command ends.Loss) n).sense_ended ≡ (end_at v n).sense_ended
    go true = refl
    go false = with_sense v id.command n ends.Loss l
event_sense mines v n (events.Aborted host target unit what) l =
    mines_sense (events.Aborted host target unit what) ends.Abort mines v n l
event_sense mines v n (events.Reset dev) l = mines_sense (events.Reset dev) ends.Reset mines v n l

events_sense : (mines : List Mine) (v : List CommandEnd) (n : ℕ) (shown : List Event) → n < length v
    → (end_at (ends_after_events mines v shown) n).sense_ended
    ≡ (has_end shown (sense_id n) || (end_at v n).sense_ended)
events_sense mines v n [] l = refl
events_sense mines v n (e ∷ shown) l = event_sense mines (ends_after_events mines v shown) n e
    (subst (λ (z : ℕ). n < z) (sym (events_length mines v shown)) l)
    ∙ (λ i. is_end_of (sense_id n) e || events_sense mines v n shown l i)
    ∙ or_later (is_end_of (sense_id n) e) (has_end shown (sense_id n)) (end_at v n).sense_ended

-- ---- callings without an answer

over_from : (b : Sent) (dev k : ℕ) (commands : List CmdDef) (j n : ℕ)
    → n ≡ j + k → is_of_host (command_at commands (suc j)) dev ≡ true
    → is_over (mine_at (mines_from b dev k commands) n) ≡ has_item b.over (command_item n)
over_from b dev k [] j n e h = cc
over_from b dev k (c ∷ commands) zero n e h = (λ i. is_over (mine_at (map (mine_of b.checks)
    (if h i then own_command b k c ∷ own_commands b dev (k + 1) commands else own_commands b dev (k + 1) commands)) n))
    ∙ (λ i. is_over (if eq-eqb k n (omega (arith, e)) i then Some (mine_of b.checks (own_command b k c))
    else mine_at (map (mine_of b.checks) (own_commands b dev (k + 1) commands)) n))
    ∙ ap (λ (x : ℕ). has_item b.over (command_item x)) (omega (arith, e))
over_from b dev k (c ∷ commands) (suc j) n e h =
    go (over_from b dev (k + 1) commands j n (omega (arith, e)) h) (c.host == dev)
  where
    go : is_over (mine_at (map (mine_of b.checks) (own_commands b dev (k + 1) commands)) n)
        ≡ has_item b.over (command_item n) → (q : Bool) → is_over (mine_at (map (mine_of b.checks)
        (if q then own_command b k c ∷ own_commands b dev (k + 1) commands else own_commands b dev (k + 1) commands)) n)
        ≡ has_item b.over (command_item n)
    go r true =
        (λ i. is_over (if ne_eqb k n (λ z. omega (arith, z, e)) i then Some (mine_of b.checks (own_command b k c))
        else mine_at (map (mine_of b.checks) (own_commands b dev (k + 1) commands)) n))
        ∙ r
    go r false = r

over_told : (b : Sent) (dev : ℕ) (commands : List CmdDef) (n : ℕ) → is_of_host (command_at commands n) dev ≡ true
    → is_over (mine_at (mines_of b dev commands) n) ≡ has_item b.over (command_item n)
over_told b dev commands zero h = none_some (sym (no_host_first commands dev) ∙ h)
  where
    none_some : false ≡ true → is_over (mine_at (mines_of b dev commands) 0) ≡ has_item b.over (command_item 0)
    none_some z = cc
over_told b dev commands (suc j) h = over_from b dev 1 commands j (suc j) (omega arith) h

abbrev number_if : Option Item → ℕ
number_if None = 0
number_if (Some (process id)) = id.command
number_if (Some _) = 0

abbrev is_command_if : Option Item → Bool
is_command_if None = false
is_command_if (Some (process id)) = not id.sense
is_command_if (Some _) = false

-- It last entered arbitration for this command.
abbrev IsFor : ℕ → Option OwnItem → Type 0
IsFor n aim = aim ≡ Some (own.Command n)

aimed : (n : ℕ) (aim : Option OwnItem) → item_if aim ≡ Some (command_item n) → IsFor n aim
aimed n None h = no (ap (λ (x : Option Item). is_command_if x) h)
  where
    no : false ≡ true → IsFor n None
    no z = cc
aimed n (Some (own.Command k)) h = λ i. Some (own.Command (number_if (h i)))
aimed n (Some (own.Sense k)) h = no (ap (λ (x : Option Item). is_command_if x) h)
  where
    no : false ≡ true → IsFor n (Some (own.Sense k))
    no z = cc
aimed n (Some (own.Abort k)) h = no (ap (λ (x : Option Item). is_command_if x) h)
  where
    no : false ≡ true → IsFor n (Some (own.Abort k))
    no z = cc

pub one_host : (c : Option CmdDef) (d dev : ℕ) → is_of_host c d ≡ true → is_of_host c dev ≡ true → d ≡ dev
one_host None d dev x y = cc
one_host (Some c) d dev x y = sym (eqb-true c.host d x) ∙ eqb-true c.host dev y

first_stays : (old : Option told.Ending) (e : told.Ending) → is_some old ≡ true → first_of old e ≡ old
first_stays None e h = cc
first_stays (Some x) e h = refl

-- A calling that ended no command of this number.
answered_told : (s : ScenarioValue) (c : Story) (dev n : ℕ) (v : List CommandEnd) (aim : Option OwnItem)
    → n < length v → is_of_host (command_at s.commands n) dev ≡ true → AreEnded c → ending_at v n ≡ ending_of c.ended n
    → ending_at (ends_after_calling (mines_of c.sent dev s.commands) v aim) n ≡ ending_of c.ended n
answered_told s c dev n v None l h a e = e
answered_told s c dev n v (Some (own.Sense k)) l h a e = e
answered_told s c dev n v (Some (own.Abort k)) l h a e = e
answered_told s c dev n v (Some (own.Command k)) l h a e =
    go (is_over (mine_at (mines_of c.sent dev s.commands) k)) refl (k == n) refl ∙ e
  where
    ended : k ≡ n → is_over (mine_at (mines_of c.sent dev s.commands) k) ≡ true → is_some (ending_at v n) ≡ true
    ended x o =
        (λ i. is_some (e i))
        ∙ sym (a.over n)
        ∙ sym (over_told c.sent dev s.commands n h)
        ∙ (λ i. is_over (mine_at (mines_of c.sent dev s.commands) (sym x i)))
        ∙ o

    go : (o : Bool) → is_over (mine_at (mines_of c.sent dev s.commands) k) ≡ o → (q : Bool) → (k == n) ≡ q
        → ending_at (if o then ends_with v k ends.Unanswered else v) n ≡ ending_at v n
    go true o true q =
        with_told v k n ends.Unanswered l
        ∙ (λ i. ended_if (q i) (ending_at v n) unanswered)
        ∙ first_stays (ending_at v n) unanswered (ended (eqb-true k n q) o)
    go true o false q = with_told v k n ends.Unanswered l ∙ (λ i. ended_if (q i) (ending_at v n) unanswered)
    go false o x q = refl

-- A calling in vain that ended it.
vain_told : (s : ScenarioValue) (c : Story) (dev n : ℕ) (v : List CommandEnd)
    → n < length v → is_of_host (command_at s.commands n) dev ≡ true
    → AreEnded c → ending_at v n ≡ None → ending_of c.ended n ≡ Some unanswered
    → ending_at (ends_after_calling (mines_of c.sent dev s.commands) v (Some (own.Command n))) n ≡ ending_of c.ended n
vain_told s c dev n v l h a none now =
    (λ i. ending_at (if over i then ends_with v n ends.Unanswered else v) n)
    ∙ with_told v n n ends.Unanswered l
    ∙ (λ i. ended_if (eq-eqb n n refl i) (none i) unanswered)
    ∙ sym now
  where
    over : is_over (mine_at (mines_of c.sent dev s.commands) n) ≡ true
    over = over_told c.sent dev s.commands n h ∙ a.over n ∙ (λ i. is_some (now i))

calling_told : (s : ScenarioValue) (b c : Story) (dev n : ℕ) (v : List CommandEnd) (aim : Option OwnItem) → n < length v
    → is_of_host (command_at s.commands n) dev ≡ true → AreEnded c → ((d : ℕ) → d < 8 → IsItemIf s d (aim_of b.aims d))
    → item_if aim ≡ aim_of b.aims dev → Calls b c n → ending_at v n ≡ ending_of b.ended n
    → ending_at (ends_after_calling (mines_of c.sent dev s.commands) v aim) n ≡ ending_of c.ended n
calling_told s b c dev n v aim l h a items at (same x) e = answered_told s c dev n v aim l h a (e ∙ sym x)
calling_told s b c dev n v aim l h a items at (vain d lt for none now) e =
    let it : d ≡ dev = one_host (command_at s.commands n) d dev
    (subst (λ (z : Option Item). IsItemIf s d z) for (items d lt)) h in
    let own_aim : aim ≡ Some (own.Command n) = aimed n aim (at ∙ (λ i. aim_of b.aims (sym it i)) ∙ for) in
    (λ i. ending_at (ends_after_calling (mines_of c.sent dev s.commands) v (own_aim i)) n)
    ∙ vain_told s c dev n v l h a (e ∙ none) now

calling_length : (mines : List Mine) (v : List CommandEnd) (aim : Option OwnItem)
    → length (ends_after_calling mines v aim) ≡ length v
calling_length mines v None = refl
calling_length mines v (Some (own.Sense k)) = refl
calling_length mines v (Some (own.Abort k)) = refl
calling_length mines v (Some (own.Command k)) = go (is_over (mine_at mines k))
  where
    go : (q : Bool) → length (if q then ends_with v k ends.Unanswered else v) ≡ length v
    go true = with_length v k ends.Unanswered
    go false = refl

calling_sense : (mines : List Mine) (v : List CommandEnd) (n : ℕ) (aim : Option OwnItem) → n < length v
    → (end_at (ends_after_calling mines v aim) n).sense_ended ≡ (end_at v n).sense_ended
calling_sense mines v n None l = refl
calling_sense mines v n (Some (own.Sense k)) l = refl
calling_sense mines v n (Some (own.Abort k)) l = refl
calling_sense mines v n (Some (own.Command k)) l = go (is_over (mine_at mines k))
  where
    go : (q : Bool) → (end_at (if q then ends_with v k ends.Unanswered else v) n).sense_ended ≡ (end_at v n).sense_ended
    go true = with_sense v k n ends.Unanswered l
    go false = refl

-- ---- one row more

-- What a row with these events makes of them, `d` being what is sent after it.
rows_length : (s : ScenarioValue) (d : Sent) (dev : ℕ) (v : List CommandEnd) (aim : Option OwnItem) (shown : List Event)
    → length (ends_after (my_book s d dev) aim v shown) ≡ length v
rows_length s d dev v aim [] = calling_length (mines_of d dev s.commands) v aim
rows_length s d dev v aim (e ∷ shown) = events_length (mines_of d dev s.commands) v (e ∷ shown)

rows_sense :
    (s : ScenarioValue) (d : Sent) (dev n : ℕ) (v : List CommandEnd) (aim : Option OwnItem) (shown : List Event)
    → n < length v → (end_at (ends_after (my_book s d dev) aim v shown) n).sense_ended
    ≡ (has_end shown (sense_id n) || (end_at v n).sense_ended)
rows_sense s d dev n v aim [] l = calling_sense (mines_of d dev s.commands) v n aim l
rows_sense s d dev n v aim (e ∷ shown) l = events_sense (mines_of d dev s.commands) v n (e ∷ shown) l

rows_told :
    (s : ScenarioValue) (b c : Story) (dev n : ℕ) (v : List CommandEnd) (aim : Option OwnItem) (shown : List Event)
    → n < length v → is_of_host (command_at s.commands n) dev ≡ true → AreEnded c
    → ((d : ℕ) → d < 8 → IsItemIf s d (aim_of b.aims d)) → item_if aim ≡ aim_of b.aims dev
    → Calls b c n → (is_empty shown ≡ false → IsUnended b c) → ending_at v n ≡ ending_of b.ended n
    → ending_at (ends_after (my_book s (story_after_events s c shown).sent dev) aim v shown) n
    ≡ ending_of (story_after_events s c shown).ended n
rows_told s b c dev n v aim [] l h a items at calls busy e = calling_told s b c dev n v aim l h a items at calls e
rows_told s b c dev n v aim (event ∷ shown) l h a items at calls busy e = events_told s c
    (story_after_events s c (event ∷ shown)).sent dev n v (event ∷ shown) l h (events_sent s c (event ∷ shown)) a
    (e ∙ (λ i. ending_of (sym (busy refl).ended i) n))

pub endings_go_on :
    (s : ScenarioValue) (rows : List Row) (row : Row) (dev : ℕ) (v : List CommandEnd) (aim : Option OwnItem)
    → IsPlain s rows (run_state s rows) → AreOfDevices (row ∷ rows)
    → item_if aim ≡ aim_of (run_state s rows).story.aims dev → AreEndingsOf s rows dev v → AreEndingsOf s
    (row ∷ rows) dev (ends_after (my_book s (run_state s (row ∷ rows)).story.sent dev) aim v (events_of_row s rows row))
endings_go_on s rows row dev v aim p d at h =
    let b : Story = (run_state s rows).story in
    let r : RowReading = row_reading b.bus_state row in
    let c : Story = story_by_change s b r row in
    let shown : List Event = events_of_row s rows row in
    let caller : IsCaller b.bus_state.call = subst
    (λ (z : Option Call). IsCaller z) (sym p.call) (callers_are rows d.1) in
    record {
      long = rows_length s (run_state s (row ∷ rows)).story.sent dev v aim shown ∙ h.long;
      ends = λ n k k_is own_is.
          let its : is_of_host (command_at s.commands n) dev ≡ true = (λ i. is_of_host (k_is i) dev) ∙ own_is in
          let l : n < length v = subst (λ (z : ℕ). n < z) (sym h.long) (in_range s.commands n dev its) in
          let x = h.ends n k k_is own_is in
          record {
            ending_is = rows_told s b c dev n v aim shown l its (change_keeps s b r row (are_ended s rows))
                (aims_are s rows d.1).own_items at (change_calls s b n r row caller)
                (shown_unended s b r row (links_stand s rows)) x.ending_is;
            sense_is = rows_sense s (run_state s (row ∷ rows)).story.sent dev n v aim shown l
                ∙ (λ i. has_end shown (sense_id n) || x.sense_is i)
                ∙ sym (list_any-append (λ e. is_end_of (sense_id n) e) shown b.history);
          };
    }

-- A row in a connection that shows no event leaves them as they are.
pub endings_stay : (s : ScenarioValue) (rows : List Row) (row : Row) (dev : ℕ) (v : List CommandEnd)
    → IsPlain s rows (run_state s rows) → is_some (connection rows) ≡ true → [] ≡ events_of_row s rows row
    → AreEndingsOf s rows dev v → AreEndingsOf s (row ∷ rows) dev v
endings_stay s rows row dev v p stands none h =
    let b : Story = (run_state s rows).story in
    let c : Story = story_by_change s b (row_reading b.bus_state row) row in
    let x : IsUnended b c = linked_unended s b (row_reading b.bus_state row) row
    ((λ i. is_some (p.connection i)) ∙ stands) in
    record {
      long = h.long;
      ends = λ n k k_is own_is. record {
        ending_is = (h.ends n k k_is own_is).ending_is
            ∙ (λ i. ending_of (sym x.ended i) n)
            ∙ (λ i. ending_of (story_after_events s c (none i)).ended n);
        sense_is = (h.ends n k k_is own_is).sense_is ∙ (λ i. has_end (none i ++ b.history) (sense_id n));
      };
    }

-- ---- before any row

none_at : (m n : ℕ) → end_at (replicate m no_end) n ≡ no_end
none_at zero n = refl
none_at (suc m) zero = refl
none_at (suc m) (suc n) = none_at m n

pub endings_start : (s : ScenarioValue) (dev : ℕ) (v : List CommandEnd) → v ≡ replicate (length s.commands + 1) no_end
    → AreEndingsOf s [] dev v
endings_start s dev v e = record {
  long = (λ i. length (e i)) ∙ length-replicate (length s.commands + 1) no_end;
  ends = λ n c c_is own_is.
      let none : end_at v n ≡ no_end = (λ i. end_at (e i) n) ∙ none_at (length s.commands + 1) n in
      record { ending_is = λ i. told_ending_if (none i).ending; sense_is = λ i. (none i).sense_ended };
}
