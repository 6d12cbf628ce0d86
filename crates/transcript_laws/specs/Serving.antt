-- The connection of a known process: its account is what the process has carried, and its items show the events of the
-- connection.
use Rattle.std.specs.Prelude.{ℕ, ◌≡◌, Bool, true, false, ◌&&◌, List, [], ◌∷◌, reverse, Option, Some, if◌then◌else◌}
use Rattle.std.specs.List.{flat_map}
use Rattle.due_model.specs.bus_base.specs.declared.Event.{Event}
use Rattle.due_model.specs.bus_base.specs.declared.Event.TheVariants as events
use Rattle.due_model.specs.bus_base.specs.declared.ProcId.{ProcId}
use Rattle.due_model.specs.story_model.specs.CarriedBytes.{CarriedBytes}
use Rattle.due_model.specs.story_model.specs.Story.{marked_refused, marked_shown}
use Rattle.bus_transcript.specs.declared.item.Name.{Name}
use Rattle.bus_transcript.specs.declared.part.Incoming.{Incoming}
use Rattle.bus_transcript.specs.declared.process.Process.{Process}
use Rattle.bus_transcript.specs.Accounts.{AccountValue, account_of, with_block, account_after_all}
use Rattle.bus_transcript.specs.Events.{items_named}
use Rattle.bus_transcript.specs.Opened.{OpenedValue}
use Rattle.transcript_laws.specs.Told.{IsAccountOf, account_base, has_refusal, has_answer, is_listed, shown_items}

-- In COMMAND the bytes of the phase count with those before.
abbrev pub account_now : OpenedValue → Bool → Process → AccountValue
account_now o commands c = with_block (account_base o c) (if commands then o.bytes else []) (commands && o.struck)

-- As the connection began, the transcript had this of its process.
pub record IsAsBegun (c : Process) (was : Bool) (before : Option ℕ) : Type 0 where
  pub shown : c.shown ≡ was
  pub status : c.status ≡ before

-- The name is refused where the history has refused its process, and not where it has shown its status.
pub record IsRefused (refused : List Name) (name : Name) (id : ProcId) (history : List Event) : Type 0 where
  pub refusal : has_refusal history id ≡ true → is_listed refused name ≡ true
  pub answer : has_answer history id ≡ true → is_listed refused name ≡ false

-- What is carried now, what MESSAGE PARITY ERROR would bring back, and the events of the connection so far, the newest
-- first.
pub record IsServing (o : OpenedValue) (commands : Bool) (id : ProcId) (now back : CarriedBytes)
    (conn history : List Event) (was : Bool) (before : Option ℕ) : Type 0 where
  pub account : (c : Process) → IsAsBegun c was before → IsAccountOf (account_now o commands c) now
  pub void : (m : Incoming) (c : Process) → o.held ≡ Some m → o.since ≡ [] → o.bytes ≡ [] → IsAsBegun c was before
      → IsAccountOf (account_after_all (account_of c []) o.parts) back
  pub told : (refused : List Name) (c : Process) → IsAsBegun c was before → IsRefused refused c.name id history
      → shown_items refused (account_base o c).items ≡ flat_map (λ event. items_named c.name event) (reverse conn)

-- ---- what the events of a row mark

abbrev pub marked_by : CarriedBytes → Event → CarriedBytes
marked_by c (events.Refuse id) = marked_refused c
marked_by c (events.Run id) = marked_shown c
marked_by c (events.Fail id code) = marked_shown c
marked_by c _ = c

-- The newest first.
abbrev pub marked_with : CarriedBytes → List Event → CarriedBytes
marked_with c [] = c
marked_with c (event ∷ shown) = marked_by (marked_with c shown) event

-- ---- before the process is known

-- Nothing of a command block counts, and the status pointer is 0.
pub record IsBlank (c : CarriedBytes) : Type 0 where
  pub block : c.block ≡ []
  pub struck : c.struck ≡ false
  pub active : c.status.active ≡ 0
  pub saved : c.status.saved ≡ 0
