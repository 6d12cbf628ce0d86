-- What the transcript has of a process beside what the story has carried of it (6.4, 6.6.19, 6.6.20).
use Rattle.std.specs.Prelude.{ℕ, ◌≡◌, ◌==◌, Bool, true, false, not, ◌&&◌, List, [], ◌∷◌, Option, Some, None}
use Rattle.std.specs.List.{list_any, flat_map}
use Rattle.due_model.specs.bus_base.specs.declared.Event.{Event}
use Rattle.due_model.specs.bus_base.specs.declared.Event.TheVariants as events
use Rattle.due_model.specs.bus_base.specs.declared.ProcId.{ProcId}
use Rattle.due_model.specs.array_model.specs.Processes.{same_id}
use Rattle.due_model.specs.bus_phases.specs.Half.{is_nil}
use Rattle.due_model.specs.story_model.specs.CarriedBytes.{CarriedBytes}
use Rattle.bus_transcript.specs.declared.item.Item.{Item}
use Rattle.bus_transcript.specs.declared.item.Name.{Name}
use Rattle.bus_transcript.specs.declared.process.Process.{Process}
use Rattle.bus_transcript.specs.Accounts.{AccountValue, account_of, account_after_all}
use Rattle.bus_transcript.specs.Events.{same_name, event_shown}
use Rattle.bus_transcript.specs.Opened.{OpenedValue}
use Rattle.transcript_laws.specs.Parts.{base_parts}

abbrev pub first_byte : List ℕ → Option ℕ
first_byte [] = None
first_byte (b ∷ bytes) = Some b

-- ---- the account of a process in its connection

-- What a process that was refused has shown is told by none.
pub record IsAccountOf (a : AccountValue) (c : CarriedBytes) : Type 0 where
  pub block : a.block ≡ c.block
  pub struck : a.struck ≡ c.struck
  pub first : a.status_first ≡ (c.status.active == 0)
  pub saved : c.status.saved ≡ 0
  pub status : a.process.status ≡ first_byte c.status.bytes
  pub begun : (is_nil c.status.bytes && not (c.status.active == 0)) ≡ false
  pub shown : c.refused ≡ false → a.process.shown ≡ c.shown

-- The account of a connection of this process so far, and no items before it.
abbrev pub account_base : OpenedValue → Process → AccountValue
account_base o c = account_after_all (account_of c []) (base_parts o)

-- ---- between its connections

pub record IsKeptOf (t : Process) (c : CarriedBytes) : Type 0 where
  pub status : t.status ≡ first_byte c.status.bytes
  pub shown : c.refused ≡ false → t.shown ≡ c.shown

-- ---- what a history has of a process

abbrev pub is_refusal : ProcId → Event → Bool
is_refusal id (events.Refuse x) = same_id x id
is_refusal id _ = false

abbrev pub is_answer : ProcId → Event → Bool
is_answer id (events.Run x) = same_id x id
is_answer id (events.Fail x code) = same_id x id
is_answer id _ = false

abbrev pub has_refusal : List Event → ProcId → Bool
has_refusal history id = list_any (λ e. is_refusal id e) history

abbrev pub has_answer : List Event → ProcId → Bool
has_answer history id = list_any (λ e. is_answer id e) history

-- What is carried is marked as the history has it; what was refused has shown nothing, and no status is saved.
pub record IsMarked (history : List Event) (c : CarriedBytes) : Type 0 where
  pub refused : c.refused ≡ has_refusal history c.id
  pub shown : c.shown ≡ has_answer history c.id
  pub apart : c.refused ≡ true → c.shown ≡ false
  pub saved : c.status.saved ≡ 0

-- ---- the items that are events

abbrev pub is_listed : List Name → Name → Bool
is_listed refused name = list_any (λ n. same_name n name) refused

abbrev pub shown_items : List Name → List Item → List Item
shown_items refused list = flat_map (λ item. event_shown refused item) list
