-- An event ends no command that was past before it, and none of which nothing has been sent.
use Rattle.std.proofs.Common.{ℕ, suc, zero, ◌≡◌, ◌+◌, ◌<◌, Bool, true, false, List, [], ◌∷◌, ◌++◌, ◌∙◌, refl, sym}
use Rattle.std.proofs.Common.{arith, length, set, take, drop, Option, Some, None}
use Rattle.std.specs.Prelude.{if◌then◌else◌, not, ◌&&◌, ◌||◌, ◌==◌, is_some, is_none, map}
use Rattle.std.proofs.lemmas.Bool.{and_parts, and_from}
use Rattle.std.proofs.lemmas.List.{set-get_or, take-append-drop}
use Rattle.bus_base.specs.declared.Event.{Event}
use Rattle.bus_base.specs.declared.Event.TheVariants as events
use Rattle.bus_trace.specs.declared.Row.{Row}
use Rattle.scenario.specs.declared.value.CmdDef.{CmdDef}
use Rattle.scenario.specs.Value.{ScenarioValue}
use Rattle.array_model.specs.Processes.{command_at}
use Rattle.story_model.specs.Items.{command_item, has_item, Sent}
use Rattle.due_model.specs.RunSteps.{run_state}
use Rattle.due_model.specs.Wants.{own_command, own_commands}
use Rattle.initiator_books.specs.declared.endings.CommandEnd.{CommandEnd}
use Rattle.initiator_books.specs.declared.endings.Ending.{Ending}
use Rattle.initiator_books.specs.declared.endings.Ending.TheVariants as ends
use Rattle.initiator_books.specs.declared.mine.Mine.{Mine}
use Rattle.initiator_books.specs.declared.mine.OwnItem.{OwnItem}
use Rattle.initiator_books.specs.Books.{BookValue}
use Rattle.initiator_books.specs.Commands.{is_past, is_fresh, all_past, all_fresh}
use Rattle.initiator_books.specs.Endings.{ended_so, with_sense_end, end_at, ends_with, ends_with_sense, is_named}
use Rattle.initiator_books.specs.Endings.{ends_of_mines, ends_after_event, ends_after_events, ends_after}
use Rattle.initiator_books.specs.Endings.{ends_after_from, have_ended, told_ending_if, AreEndingsOf}
use Rattle.initiator_books.specs.Mines.{mine_of, mines_of}
use Rattle.initiator_books.proofs.EndingRows.{with_at, with_sense_at}
use Rattle.initiator_books.proofs.OwnCommands.{fresh_parts}
use Rattle.initiator_books.proofs.StoryEnds.{are_ended}
use Rattle.initiator_books.proofs.Mines.{mines_from}

-- ---- of none of which nothing has been sent

fresh_end_none : (event : Event) (e : Ending) (ys : List Mine) (v : List CommandEnd) → all_fresh ys ≡ true
    → ends_of_mines event e ys v ≡ v
fresh_end_none event e [] v h = refl
fresh_end_none event e (m ∷ ys) v h =
    let p = and_parts (is_fresh m) (all_fresh ys) h in
    (λ i. ends_of_mines event e ys (if (fresh_parts m p.0).0 i && is_named event m then ends_with v m.number e else v))
    ∙ fresh_end_none event e ys v p.1

fresh_add_none : (event : Event) (e : Ending) (xs ys : List Mine) (v : List CommandEnd) → all_fresh ys ≡ true
    → ends_of_mines event e xs v ≡ ends_of_mines event e (xs ++ ys) v
fresh_add_none event e [] ys v h = sym (fresh_end_none event e ys v h)
fresh_add_none event e (m ∷ xs) ys v h =
    fresh_add_none event e xs ys (if m.sent && is_named event m then ends_with v m.number e else v) h

event_before_fresh : (xs ys : List Mine) (v : List CommandEnd) (event : Event) → all_fresh ys ≡ true
    → ends_after_event xs v event ≡ ends_after_event (xs ++ ys) v event
event_before_fresh xs ys v (events.Accept id) h = refl
event_before_fresh xs ys v (events.Refuse id) h = refl
event_before_fresh xs ys v (events.Run id) h = refl
event_before_fresh xs ys v (events.Fail id code) h = refl
event_before_fresh xs ys v (events.End id status) h = refl
event_before_fresh xs ys v (events.Lost id) h = refl
event_before_fresh xs ys v (events.Aborted host target unit what) h =
    fresh_add_none (events.Aborted host target unit what) ends.Abort xs ys v h
event_before_fresh xs ys v (events.Reset dev) h = fresh_add_none (events.Reset dev) ends.Reset xs ys v h

pub events_before_fresh : (xs ys : List Mine) (v : List CommandEnd) (shown : List Event) → all_fresh ys ≡ true
    → ends_after_events xs v shown ≡ ends_after_events (xs ++ ys) v shown
events_before_fresh xs ys v [] h = refl
events_before_fresh xs ys v (e ∷ shown) h = (λ i. ends_after_event xs (events_before_fresh xs ys v shown h i) e)
    ∙ event_before_fresh xs ys (ends_after_events (xs ++ ys) v shown) e h

-- ---- what has an ending keeps it

in_list : (v : List CommandEnd) (n : ℕ) → is_some (end_at v n).ending ≡ true → n < length v
in_list [] n h = cc
in_list (x ∷ v) zero h = omega arith
in_list (x ∷ v) (suc n) h = omega (arith, in_list v n h)

some_so : (e : Ending) (x : CommandEnd) → is_some (ended_so e x).ending ≡ true
some_so e x = go x.ending refl
  where
    go : (o : Option Ending) → x.ending ≡ o → is_some (ended_so e x).ending ≡ true
    go None is = λ i. is_some (if is_none (is i) then record x { ending = Some e } else x).ending
    go (Some z) is =
        (λ i. is_some (if is_none (is i) then record x { ending = Some e } else x).ending) ∙ (λ i. is_some (is i))

kept_with : (v : List CommandEnd) (k n : ℕ) (e : Ending) → is_some (end_at v n).ending ≡ true
    → is_some (end_at (ends_with v k e) n).ending ≡ true
kept_with v k n e h = (λ i. is_some (with_at v k n e (in_list v n h) i).ending) ∙ go (k == n)
  where
    go : (q : Bool) → is_some (if q then ended_so e (end_at v n) else end_at v n).ending ≡ true
    go true = some_so e (end_at v n)
    go false = h

kept_with_sense : (v : List CommandEnd) (k n : ℕ) → is_some (end_at v n).ending ≡ true
    → is_some (end_at (ends_with_sense v k) n).ending ≡ true
kept_with_sense v k n h = (λ i. is_some (with_sense_at v k n (in_list v n h) i).ending) ∙ go (k == n)
  where
    go : (q : Bool) → is_some (if q then with_sense_end (end_at v n) else end_at v n).ending ≡ true
    go true = h
    go false = h

kept_by_mines : (event : Event) (e : Ending) (mines : List Mine) (v : List CommandEnd) (n : ℕ)
    → is_some (end_at v n).ending ≡ true → is_some (end_at (ends_of_mines event e mines v) n).ending ≡ true
kept_by_mines event e [] v n h = h
kept_by_mines event e (m ∷ mines) v n h = kept_by_mines event e mines
    (if m.sent && is_named event m then ends_with v m.number e else v) n (go (m.sent && is_named event m))
  where
    go : (q : Bool) → is_some (end_at (if q then ends_with v m.number e else v) n).ending ≡ true
    go true = kept_with v m.number n e h
    go false = h

kept_by_event : (mines : List Mine) (v : List CommandEnd) (event : Event) (n : ℕ) → is_some (end_at v n).ending ≡ true
    → is_some (end_at (ends_after_event mines v event) n).ending ≡ true
kept_by_event mines v (events.Accept id) n h = h
kept_by_event mines v (events.Refuse id) n h = h
kept_by_event mines v (events.Run id) n h = h
kept_by_event mines v (events.Fail id code) n h = h
kept_by_event mines v (events.End id status) n h = go id.sense
  where
    go : (q : Bool) → is_some
        (end_at (if q then ends_with_sense v id.command else ends_with v id.command (ends.Status status)) n).ending
        ≡ true
    go true = kept_with_sense v id.command n h
    go false = kept_with v id.command n (ends.Status status) h
kept_by_event mines v (events.Lost id) n h = go id.sense
  where
    go : (q : Bool) → is_some (end_at (if q then v else ends_with v id.command ends.Loss) n).ending ≡ true
    go true = h
    go false = kept_with v id.command n ends.Loss h
kept_by_event mines v (events.Aborted host target unit what) n h =
    kept_by_mines (events.Aborted host target unit what) ends.Abort mines v n h
kept_by_event mines v (events.Reset dev) n h = kept_by_mines (events.Reset dev) ends.Reset mines v n h

kept_by_events : (mines : List Mine) (v : List CommandEnd) (shown : List Event) (n : ℕ)
    → is_some (end_at v n).ending ≡ true → is_some (end_at (ends_after_events mines v shown) n).ending ≡ true
kept_by_events mines v [] n h = h
kept_by_events mines v (e ∷ shown) n h =
    kept_by_event mines (ends_after_events mines v shown) e n (kept_by_events mines v shown n h)

all_kept : (mines : List Mine) (v : List CommandEnd) (shown : List Event) (xs : List Mine) → have_ended v xs ≡ true
    → have_ended (ends_after_events mines v shown) xs ≡ true
all_kept mines v shown [] h = refl
all_kept mines v shown (m ∷ xs) h =
    let p = and_parts (is_some (end_at v m.number).ending) (have_ended v xs) h in
    and_from (is_some (end_at (ends_after_events mines v shown) m.number).ending)
    (have_ended (ends_after_events mines v shown) xs) (kept_by_events mines v shown m.number p.0)
    (all_kept mines v shown xs p.1)

-- ---- none ends again

no_second : (v : List CommandEnd) (n : ℕ) (e : Ending) → is_some (end_at v n).ending ≡ true → ends_with v n e ≡ v
no_second v n e h = (λ i. set v n (same i)) ∙ set-get_or v n _
  where
    none : (o : Option Ending) → is_some o ≡ true → is_none o ≡ false
    none None x = cc
    none (Some z) x = refl

    same : ended_so e (end_at v n) ≡ end_at v n
    same = λ i. if none (end_at v n).ending h i then record (end_at v n) { ending = Some e } else end_at v n

ended_add_none : (event : Event) (e : Ending) (xs ys : List Mine) (v : List CommandEnd) → have_ended v xs ≡ true
    → ends_of_mines event e (xs ++ ys) v ≡ ends_of_mines event e ys v
ended_add_none event e [] ys v h = refl
ended_add_none event e (m ∷ xs) ys v h =
    let p = and_parts (is_some (end_at v m.number).ending) (have_ended v xs) h in
    (λ i. ends_of_mines event e (xs ++ ys) (go p.0 (m.sent && is_named event m) i)) ∙ ended_add_none event e xs ys v p.1
  where
    go : is_some (end_at v m.number).ending ≡ true → (q : Bool) → (if q then ends_with v m.number e else v) ≡ v
    go x true = no_second v m.number e x
    go x false = refl

event_after_ended : (xs ys : List Mine) (v : List CommandEnd) (event : Event) → have_ended v xs ≡ true
    → ends_after_event (xs ++ ys) v event ≡ ends_after_event ys v event
event_after_ended xs ys v (events.Accept id) h = refl
event_after_ended xs ys v (events.Refuse id) h = refl
event_after_ended xs ys v (events.Run id) h = refl
event_after_ended xs ys v (events.Fail id code) h = refl
event_after_ended xs ys v (events.End id status) h = refl
event_after_ended xs ys v (events.Lost id) h = refl
event_after_ended xs ys v (events.Aborted host target unit what) h =
    ended_add_none (events.Aborted host target unit what) ends.Abort xs ys v h
event_after_ended xs ys v (events.Reset dev) h = ended_add_none (events.Reset dev) ends.Reset xs ys v h

events_after_ended : (xs ys : List Mine) (v : List CommandEnd) (shown : List Event) → have_ended v xs ≡ true
    → ends_after_events (xs ++ ys) v shown ≡ ends_after_events ys v shown
events_after_ended xs ys v [] h = refl
events_after_ended xs ys v (e ∷ shown) h =
    event_after_ended xs ys (ends_after_events (xs ++ ys) v shown) e (all_kept (xs ++ ys) v shown xs h)
    ∙ (λ i. ends_after_event ys (events_after_ended xs ys v shown h i) e)

pub from_is_all : (first : ℕ) (book : BookValue) (aim : Option OwnItem) (v : List CommandEnd) (shown : List Event)
    → have_ended v (take first book.mines) ≡ true → ends_after_from first book aim v shown ≡ ends_after book aim v shown
from_is_all first book aim v [] h = refl
from_is_all first book aim v (e ∷ shown) h =
    sym (events_after_ended (take first book.mines) (drop first book.mines) v (e ∷ shown) h)
    ∙ (λ i. ends_after_events (take-append-drop first book.mines i) v (e ∷ shown))

-- ---- those that are past have ended

-- Of these commands, the first of which has this number, the over ones of this initiator have an ending.
record HaveEnds (b : Sent) (dev : ℕ) (v : List CommandEnd) (k : ℕ) (commands : List CmdDef) : Type 0 where
  ended : (j : ℕ) (c : CmdDef) → command_at commands (suc j) ≡ Some c → (c.host == dev) ≡ true
      → has_item b.over (command_item (j + k)) ≡ true → is_some (end_at v (j + k)).ending ≡ true

past_from : (b d : Sent) (dev : ℕ) (v : List CommandEnd) (k : ℕ) (commands : List CmdDef) (first : ℕ)
    → HaveEnds b dev v k commands → all_past (take first (mines_from b dev k commands)) ≡ true
    → have_ended v (take first (mines_from d dev k commands)) ≡ true
past_from b d dev v k [] zero x h = refl
past_from b d dev v k [] (suc first) x h = refl
past_from b d dev v k (c ∷ commands) first x h =
    go (λ f z. past_from b d dev v (k + 1) commands f rest z) (c.host == dev) refl first h
  where
    rest : HaveEnds b dev v (k + 1) commands
    rest = record {
      ended = λ j o o_is own over.
          let e : j + (k + 1) ≡ suc j + k = omega arith in
          (λ i. is_some (end_at v (e i)).ending)
          ∙ x.ended (suc j) o o_is own ((λ i. has_item b.over (command_item (sym e i))) ∙ over);
    }

    go : ((f : ℕ) → all_past (take f (mines_from b dev (k + 1) commands)) ≡ true
        → have_ended v (take f (mines_from d dev (k + 1) commands)) ≡ true)
        → (q : Bool) → (c.host == dev) ≡ q → (f : ℕ) → all_past (take f (map (mine_of b.checks)
        (if q then own_command b k c ∷ own_commands b dev (k + 1) commands else own_commands b dev (k + 1) commands)))
        ≡ true
        → have_ended v (take f (map (mine_of d.checks)
        (if q then own_command d k c ∷ own_commands d dev (k + 1) commands else own_commands d dev (k + 1) commands)))
        ≡ true
    go later false own f z = later f z
    go later true own zero z = refl
    go later true own (suc f) z =
        let m : Mine = mine_of b.checks (own_command b k c) in
        let p = and_parts (is_past m) (all_past (take f (mines_from b dev (k + 1) commands))) z in
        let over = (and_parts m.over (m.sense_over || not (m.checked || m.sense_sent)) p.0).0 in
        let e : 0 + k ≡ k = omega arith in
        and_from (is_some (end_at v k).ending) (have_ended v (take f (mines_from d dev (k + 1) commands)))
        ((λ i. is_some (end_at v (sym e i)).ending)
        ∙ x.ended zero c refl own ((λ i. has_item b.over (command_item (e i))) ∙ over)) (later f p.1)

some_told : (o : Option Ending) → is_some (told_ending_if o) ≡ is_some o
some_told None = refl
some_told (Some e) = refl

pub past_have_ended : (s : ScenarioValue) (rows : List Row) (dev : ℕ) (d : Sent) (v : List CommandEnd) (first : ℕ)
    → AreEndingsOf s rows dev v → all_past (take first (mines_of (run_state s rows).story.sent dev s.commands)) ≡ true
    → have_ended v (take first (mines_of d dev s.commands)) ≡ true
past_have_ended s rows dev d v first h p =
    past_from (run_state s rows).story.sent d dev v 1 s.commands first
    (record {
      ended = λ j c c_is own over.
          let e : suc j ≡ j + 1 = omega arith in
          let at : command_at s.commands (j + 1) ≡ Some c = (λ i. command_at s.commands (sym e i)) ∙ c_is in
          let x = h.ends (j + 1) c at own in
          sym (some_told (end_at v (j + 1)).ending)
          ∙ (λ i. is_some (x.ending_is i))
          ∙ sym ((are_ended s rows).over (j + 1))
          ∙ over;
    })
    p
