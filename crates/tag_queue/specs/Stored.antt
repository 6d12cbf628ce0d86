-- How a queue stands in its fields: the entries in a slab, and the arrivals in their order. No public clause cites
-- this.
use Rattle.std.specs.Prelude.{◌≡◌, ℕ, ◌+◌, ◌-◌, ◌≤◌, Bool, true, false, ◌&&◌, ◌||◌, ◌==◌, List, [], ◌∷◌, ◌++◌, length}
use Rattle.std.specs.Prelude.{Option, Some, None, if◌then◌else◌}
use Rattle.slab.specs.Slab.{Slab, get, slab_len}
use Rattle.array_model.specs.declared.entries.Entry.{Entry}
use Rattle.array_model.specs.Order.{holds_back}
use Rattle.tag_queue.specs.declared.those.Those.{Those}
use Rattle.tag_queue.specs.declared.arrivals.Arrival.{Arrival}
use Rattle.tag_queue.specs.Queue.{Queued, is_current, waiting_in, entries_in, is_of}

-- ---- what they stand for

abbrev pub queued_if : ℕ → Option Entry → List Queued → List Queued
queued_if key None queued = queued
queued_if key (Some entry) queued = record { key = key; entry = entry } ∷ queued

abbrev pub queued_at : Slab Entry → List Arrival → List Queued
queued_at s [] = []
queued_at s (a ∷ arrivals) = queued_if a.key (get s a.key) (queued_at s arrivals)

abbrev pub waiting_at : Slab Entry → Option ℕ → List Arrival → List Queued
waiting_at s current arrivals = waiting_in current (queued_at s arrivals)

abbrev pub entries_at : Slab Entry → Option ℕ → List Arrival → List Entry
entries_at s current arrivals = entries_in (waiting_at s current arrivals)

-- ---- what is true of them

-- How many of these hold the entry back.
abbrev pub held_back_by : List Entry → Entry → ℕ
held_back_by [] p = 0
held_back_by (q ∷ before) p = if holds_back q p then held_back_by before p + 1 else held_back_by before p

-- The one that leaves and the current one do not wait.
abbrev pub is_out : Option ℕ → Option ℕ → ℕ → Bool
is_out leaving current key = is_current leaving key || is_current current key

abbrev pub IsCounted : Bool → List Entry → Entry → ℕ → Type 0
IsCounted true before p earlier = Unit {0}
IsCounted false before p earlier = earlier ≡ held_back_by before p

abbrev pub before_with : Bool → List Entry → Entry → List Entry
before_with true before p = before
before_with false before p = before ++ p ∷ []

abbrev pub IsLive : Slab Entry → ℕ → Type 0
IsLive s key = (entry : Entry) × (get s key ≡ Some entry)

-- Each arrival has its entry, and each that waits counts how many of the waiting before it hold it back.
abbrev pub AreKept : Slab Entry → Option ℕ → Option ℕ → List Entry → List Arrival → Type 0
AreKept s leaving current before [] = Unit {0}
AreKept s leaving current before (a ∷ arrivals) =
    (entry : Entry) × (get s a.key ≡ Some entry) × IsCounted (is_out leaving current a.key) before entry a.earlier
    × AreKept s leaving current (before_with (is_out leaving current a.key) before entry) arrivals

abbrev pub is_among : List Arrival → ℕ → Bool
is_among [] key = false
is_among (a ∷ arrivals) key = if a.key == key then true else is_among arrivals key

abbrev pub AreApart : List Arrival → Type 0
AreApart [] = Unit {0}
AreApart (a ∷ arrivals) = (is_among arrivals a.key ≡ false) × AreApart arrivals

abbrev pub IsAmong : List Arrival → Option ℕ → Type 0
IsAmong arrivals None = Unit {0}
IsAmong arrivals (Some key) = is_among arrivals key ≡ true

pub record IsSound (s : Slab Entry) (arrivals : List Arrival) (current : Option ℕ) (depth room : ℕ) : Type 0 where
  pub kept : AreKept s None current [] arrivals
  pub apart : AreApart arrivals
  pub current_is_live : IsAmong arrivals current
  pub counted : slab_len s ≡ length arrivals
  pub fits : length arrivals ≤ depth
  pub entries_fit : depth ≤ s.capacity
  pub arrivals_fit : depth ≤ room

-- ---- an arrival that leaves the waiting holds no other back any more

abbrev pub lowered_by : Bool → Arrival → Arrival
lowered_by false a = a
lowered_by true a = record a { earlier = a.earlier - 1 }

abbrev pub lowered_if : Bool → Entry → Option Entry → Arrival → Arrival
lowered_if passed leaving None a = a
lowered_if passed leaving (Some entry) a = lowered_by (passed && holds_back leaving entry) a

abbrev pub lowered : Slab Entry → Entry → ℕ → Bool → List Arrival → List Arrival
lowered s leaving key passed [] = []
lowered s leaving key passed (a ∷ arrivals) =
    lowered_if passed leaving (get s a.key) a ∷ lowered s leaving key (passed || a.key == key) arrivals

-- ---- the first one of an initiator, or of any

abbrev pub first_of : List Queued → Those → Option ℕ
first_of [] who = None
first_of (q ∷ queued) who = if is_of who q.entry then Some q.key else first_of queued who

-- What has this key is all of that initiator.
abbrev pub AreOf : Those → ℕ → List Queued → Type 0
AreOf who key [] = Unit {0}
AreOf who key (q ∷ queued) = ((q.key == key) ≡ true → is_of who q.entry ≡ true) × AreOf who key queued
