-- The queue of a logical unit, and what each call does to it (6.6.17, 7.8).
use Rattle.std.specs.Prelude.{ℕ, zero, suc, Bool, true, false, ◌&&◌, ◌==◌, List, [], ◌∷◌, ◌++◌, Option, Some, None}
use Rattle.std.specs.Prelude.{replicate, slice_set, if◌then◌else◌}
use Rattle.std.specs.List.{list_any}
use Rattle.bus_base.specs.declared.events.Pick.{Pick}
use Rattle.bus_base.specs.declared.ProcId.{ProcId}
use Rattle.array_model.specs.declared.entries.Entry.{Entry}
use Rattle.array_model.specs.Processes.{same_id}
use Rattle.tag_queue.specs.declared.those.Those.{Those}
use Rattle.tag_queue.specs.declared.those.Those.TheVariants as those
use Rattle.array_model.specs.Order.{chosen_place, may_run, same_number}

-- A live command, under its key.
pub record Queued : Type 0 where
  pub key : ℕ
  pub entry : Entry

abbrev pub queued : ℕ → Entry → Queued
queued key entry = record { key = key; entry = entry }

pub record QueueState : Type 0 where
  pub depth : ℕ
  -- every key is below this
  pub keys : ℕ
  -- the live commands, in order of arrival
  pub arrived : List Queued
  -- the key of the one that is current; the others wait
  pub current : Option ℕ
  -- for each device whether it stands in the hold
  pub hold : List Bool

-- ---- the waiting commands and the current one

abbrev pub is_current : Option ℕ → ℕ → Bool
is_current None key = false
is_current (Some current) key = key == current

abbrev pub waiting_in : Option ℕ → List Queued → List Queued
waiting_in current [] = []
waiting_in current (q ∷ arrived) =
    if is_current current q.key then waiting_in current arrived else q ∷ waiting_in current arrived

-- In order of arrival.
abbrev pub waiting_of : QueueState → List Queued
waiting_of q = waiting_in q.current q.arrived

abbrev pub entries_in : List Queued → List Entry
entries_in [] = []
entries_in (q ∷ queued) = q.entry ∷ entries_in queued

abbrev pub has_key : List Queued → ℕ → Bool
has_key [] key = false
has_key (q ∷ queued) key = if q.key == key then true else has_key queued key

abbrev pub entry_at : List Queued → ℕ → Option Entry
entry_at [] key = None
entry_at (q ∷ queued) key = if q.key == key then Some q.entry else entry_at queued key

abbrev pub without_key : List Queued → ℕ → List Queued
without_key [] key = []
without_key (q ∷ queued) key = if q.key == key then without_key queued key else q ∷ without_key queued key

-- ---- the choice

abbrev pub key_at : List Queued → ℕ → Option ℕ
key_at [] place = None
key_at (q ∷ waiting) zero = Some q.key
key_at (q ∷ waiting) (suc place) = key_at waiting place

abbrev pub key_at_if : List Queued → Option ℕ → Option ℕ
key_at_if waiting None = None
key_at_if waiting (Some place) = key_at waiting place

-- How many stand before the one of this key.
abbrev pub place_of : List Queued → ℕ → ℕ
place_of [] key = 0
place_of (q ∷ waiting) key = if q.key == key then 0 else suc (place_of waiting key)

abbrev pub is_held : List Bool → Bool
is_held hold = list_any (λ (held : Bool). held) hold

-- While the hold has a member no waiting command is chosen.
abbrev pub chosen_key : QueueState → Pick → Option ℕ
chosen_key q pick =
    if is_held q.hold then None else key_at_if (waiting_of q) (chosen_place pick (entries_in (waiting_of q)))

abbrev pub may_run_key : QueueState → ℕ → Bool
may_run_key q key = may_run (entries_in (waiting_of q)) (place_of (waiting_of q) key)

-- ---- what the calls do

abbrev pub empty_queue : ℕ → ℕ → QueueState
empty_queue depth keys = record { depth = depth; keys = keys; arrived = []; current = None; hold = replicate 8 false }

abbrev pub queue_with : QueueState → ℕ → Entry → QueueState
queue_with q key entry = record q { arrived = q.arrived ++ queued key entry ∷ [] }

abbrev pub queue_started : QueueState → ℕ → QueueState
queue_started q key = record q { current = Some key }

abbrev pub current_without : Option ℕ → ℕ → Option ℕ
current_without current key = if is_current current key then None else current

abbrev pub queue_left : QueueState → ℕ → Option ℕ → QueueState
queue_left q key current = record q { arrived = without_key q.arrived key; current = current }

abbrev pub queue_without : QueueState → ℕ → QueueState
queue_without q key = queue_left q key (current_without q.current key)

-- All commands, those of one initiator, or those of one initiator with one tag.
abbrev pub is_of : Those → Entry → Bool
is_of those.All entry = true
is_of (those.Of dev) entry = entry.from == dev
is_of (those.Tagged dev n) entry = entry.from == dev && same_number entry.tag (Some n)

-- One of these is such a command.
abbrev pub has_any : Those → List Queued → Bool
has_any who [] = false
has_any who (q ∷ queued) = if is_of who q.entry then true else has_any who queued

-- Those of one initiator, or all.
abbrev pub those_of : Option ℕ → Those
those_of None = those.All
those_of (Some dev) = those.Of dev

abbrev pub without_those_of : Those → List Queued → List Queued
without_those_of who [] = []
without_those_of who (q ∷ queued) =
    if is_of who q.entry then without_those_of who queued else q ∷ without_those_of who queued

abbrev pub current_among : List Queued → Option ℕ → Option ℕ
current_among queued None = None
current_among queued (Some key) = if has_key queued key then Some key else None

abbrev pub queue_cleared_of : QueueState → Those → QueueState
queue_cleared_of q who = record q {
  arrived = without_those_of who q.arrived;
  current = current_among (without_those_of who q.arrived) q.current;
}

abbrev pub with_held : QueueState → ℕ → Bool → QueueState
with_held q dev held = record q { hold = slice_set q.hold dev held }

abbrev pub with_none_held : QueueState → QueueState
with_none_held q = record q { hold = replicate 8 false }

-- ---- the first live command of an initiator and a tag

abbrev pub key_of : List Queued → ℕ → Option ℕ → Option ℕ
key_of [] from tag = None
key_of (q ∷ queued) from tag =
    if q.entry.from == from && same_number q.entry.tag tag then Some q.key else key_of queued from tag

-- ---- the first live command of a process

abbrev pub key_of_process : List Queued → ProcId → Option ℕ
key_of_process [] id = None
key_of_process (q ∷ queued) id = if same_id q.entry.id id then Some q.key else key_of_process queued id
