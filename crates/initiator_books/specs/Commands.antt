-- An initiator's own commands as they are kept: found by their numbers, and between two places all that may be open.
use Rattle.std.specs.Prelude.{ℕ, ◌≡◌, ◌+◌, ◌<◌, ◌≤◌, Bool, true, false, not, ◌&&◌, ◌||◌, ◌==◌, List, [], ◌∷◌, length}
use Rattle.std.specs.Prelude.{take, drop, nat_le, nat_lt, slice_index, slice_index_or}
use Rattle.bus_base.specs.declared.Event.{Event}
use Rattle.bus_base.specs.declared.Event.TheVariants as events
use Rattle.initiator_books.specs.declared.mine.Mine.{Mine}

-- Each number is below `limit`.
pub record CommandsValue : Type 0 where
  pub mines : List Mine
  pub limit : ℕ

-- It is over, and so is its automatic REQUEST SENSE, if there is one to come.
abbrev pub is_past : Mine → Bool
is_past m = m.over && (m.sense_over || not (m.checked || m.sense_sent))

-- Nothing has been sent of it.
abbrev pub is_fresh : Mine → Bool
is_fresh m = not (m.sent || (m.checked || m.sense_sent))

abbrev pub all_past : List Mine → Bool
all_past [] = true
all_past (m ∷ mines) = is_past m && all_past mines

abbrev pub all_fresh : List Mine → Bool
all_fresh [] = true
all_fresh (m ∷ mines) = is_fresh m && all_fresh mines

-- By the number of each the places tell where it stands, the first of these at this place.
abbrev pub are_placed : List ℕ → ℕ → List Mine → Bool
are_placed places k [] = true
are_placed places k (m ∷ mines) =
    (nat_lt m.number (length places) && slice_index places m.number == k) && are_placed places (k + 1) mines

-- The numbers of these rise, the first being this one or more, and are below the limit.
abbrev pub are_rising : ℕ → ℕ → List Mine → Bool
are_rising limit least [] = true
are_rising limit least (m ∷ mines) =
    (nat_le least m.number && nat_lt m.number limit) && are_rising limit (m.number + 1) mines

-- At this place stands the command of this number.
pub record IsPlaceOf (mines : List Mine) (place number : ℕ) : Type 0 where
  pub within : place < length mines
  pub number_is : (d : Mine) → (slice_index_or mines place d).number ≡ number

-- All before `past` are past, and all from `reached` on are fresh.
pub record AreKept (mines : List Mine) (places : List ℕ) (past reached : ℕ) : Type 0 where
  pub placed : are_placed places 0 mines ≡ true
  pub past_before : all_past (take past mines) ≡ true
  pub fresh_after : all_fresh (drop reached mines) ≡ true
  pub ordered : past ≤ reached
  pub within : reached ≤ length mines

-- An event that may concern many commands, and names none.
abbrev pub concerns_many : Event → Bool
concerns_many (events.Aborted host target unit what) = true
concerns_many (events.Reset dev) = true
concerns_many _ = false
