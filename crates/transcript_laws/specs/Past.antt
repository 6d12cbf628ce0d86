-- The items of the connections that are over show the events of the history that they made.
use Rattle.std.specs.Prelude.{◌≡◌, ◌==◌, true, false, List, [], ◌∷◌, length, reverse, Option, Some, ⊤}
use Rattle.due_model.specs.bus_base.specs.declared.Event.{Event}
use Rattle.due_model.specs.bus_base.specs.declared.Event.TheVariants as events
use Rattle.due_model.specs.bus_base.specs.declared.ProcId.{ProcId}
use Rattle.due_model.specs.story_model.specs.Items as told
use Rattle.due_model.specs.story_model.specs.Items.{process, has_item}
use Rattle.bus_transcript.specs.declared.item.Item.{Item}
use Rattle.bus_transcript.specs.declared.item.Item.TheVariants as items
use Rattle.bus_transcript.specs.declared.item.Name.{Name}
use Rattle.bus_transcript.specs.Events.{same_name, names_begun, name_sent, items_if, named_events}
use Rattle.transcript_laws.specs.Told.{has_refusal, has_answer, is_listed, shown_items}

-- What is sent is given the oldest first, a history the newest first.

-- ---- of which process an event is

abbrev pub IsEventOf : ProcId → Event → Type 0
IsEventOf id (events.Accept x) = x ≡ id
IsEventOf id (events.Refuse x) = x ≡ id
IsEventOf id (events.Run x) = x ≡ id
IsEventOf id (events.Fail x code) = x ≡ id
IsEventOf id (events.End x status) = x ≡ id
IsEventOf id (events.Lost x) = x ≡ id
IsEventOf id (events.Aborted host target unit what) = ⊤
IsEventOf id (events.Reset dev) = ⊤

abbrev pub AreEventsOf : ProcId → List Event → Type 0
AreEventsOf id [] = ⊤
AreEventsOf id (event ∷ list) = IsEventOf id event × AreEventsOf id list

-- One of a process that was sent, or of none.
abbrev pub IsEventSent : List told.Item → Event → Type 0
IsEventSent sent (events.Accept id) = has_item sent (process id) ≡ true
IsEventSent sent (events.Refuse id) = has_item sent (process id) ≡ true
IsEventSent sent (events.Run id) = has_item sent (process id) ≡ true
IsEventSent sent (events.Fail id code) = has_item sent (process id) ≡ true
IsEventSent sent (events.End id status) = has_item sent (process id) ≡ true
IsEventSent sent (events.Lost id) = has_item sent (process id) ≡ true
IsEventSent sent (events.Aborted host target unit what) = ⊤
IsEventSent sent (events.Reset dev) = ⊤

abbrev pub AreEventsSent : List told.Item → List Event → Type 0
AreEventsSent sent [] = ⊤
AreEventsSent sent (event ∷ list) = IsEventSent sent event × AreEventsSent sent list

-- The items of an event of a process of this name.
abbrev pub items_by : Option Name → Event → List Item
items_by name (events.Aborted host target unit what) = items.Abort host target (Some unit) what ∷ []
items_by name (events.Reset dev) = items.Reset dev ∷ []
items_by name event = items_if name event

-- ---- which names were refused

-- Those of the processes that the history has refused, and none of those whose status it has shown.
pub record AreRefused (refused : List Name) (sent : List told.Item) (names : List Name) (history : List Event) : Type
    0 where
  pub refusals : (id : ProcId) (name : Name) → has_refusal history id ≡ true → name_sent sent names id ≡ Some name
      → is_listed refused name ≡ true
  pub answers : (id : ProcId) (name : Name) → has_answer history id ≡ true → name_sent sent names id ≡ Some name
      → is_listed refused name ≡ false

-- ---- connections that are over

pub record IsPast (list : List Item) (sent : List told.Item) (history : List Event) : Type 0 where
  pub count : length (names_begun list) ≡ length sent
  pub known : AreEventsSent sent history
  -- a process has a number
  pub numbers : (id : ProcId) (name : Name) → name_sent sent (names_begun list) id ≡ Some name
      → (name.number == 0) ≡ false
  pub shown : (refused : List Name) → AreRefused refused sent (names_begun list) history
      → shown_items refused list ≡ named_events sent (names_begun list) (reverse history)

-- ---- the events of one process

abbrev pub IsOwnEvent : ProcId → Event → Type 0
IsOwnEvent id (events.Accept x) = x ≡ id
IsOwnEvent id (events.Refuse x) = x ≡ id
IsOwnEvent id (events.Run x) = x ≡ id
IsOwnEvent id (events.Fail x code) = x ≡ id
IsOwnEvent id (events.End x status) = x ≡ id
IsOwnEvent id (events.Lost x) = x ≡ id
IsOwnEvent id (events.Aborted host target unit what) = ⊥
IsOwnEvent id (events.Reset dev) = ⊥

abbrev pub AreOwnEvents : ProcId → List Event → Type 0
AreOwnEvents id [] = ⊤
AreOwnEvents id (event ∷ list) = IsOwnEvent id event × AreOwnEvents id list

-- ---- all names

-- A process that was refused and one that has shown its status have not the same name.
abbrev pub AreApart : List told.Item → List Name → List Event → Type 0
AreApart sent names history = (x y : ProcId) (a b : Name) → has_refusal history x ≡ true → has_answer history y ≡ true
    → name_sent sent names x ≡ Some a → name_sent sent names y ≡ Some b → same_name a b ≡ false
