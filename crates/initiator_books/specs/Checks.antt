-- The queue of the commands that ended with CHECK CONDITION, as it is kept.
use Rattle.std.specs.Prelude.{ℕ, ◌≡◌, ◌≤◌, Bool, true, false, not, ◌&&◌, ◌==◌, List, [], ◌∷◌, ◌++◌, length, take}
use Rattle.std.specs.Prelude.{nat_lt, slice_index_or, if◌then◌else◌}
use Rattle.std.specs.List.{list_any}
use Rattle.initiator_books.specs.declared.mine.Mine.{Mine}
use Rattle.initiator_books.specs.Books.{is_sense_due}

-- So many at most; each number is below `room`.
pub record ChecksValue : Type 0 where
  pub queue : List ℕ
  pub room : ℕ

abbrev pub is_in : List ℕ → ℕ → Bool
is_in queue n = list_any (λ k. k == n) queue

-- Each stands in it once.
abbrev pub with_check : ChecksValue → ℕ → ChecksValue
with_check v n =
    if not (is_in v.queue n) && nat_lt (length v.queue) v.room then record v { queue = v.queue ++ n ∷ [] } else v

-- By number it is marked what stands in it.
pub record AreMarked (count : ℕ) (slots : List ℕ) (marks : List Bool) : Type 0 where
  pub within : count ≤ length slots
  pub long : length marks ≡ length slots
  pub marked : (n : ℕ) → slice_index_or marks n false ≡ is_in (take count slots) n

-- Of none of these the automatic REQUEST SENSE is still to be sent.
abbrev pub none_due : List Mine → List ℕ → Bool
none_due mines [] = true
none_due mines (n ∷ checks) = not (is_sense_due mines n) && none_due mines checks

-- A book in which of no command before `first` in the queue the automatic REQUEST SENSE is still to be sent.
pub record IsSettled (mines : List Mine) (limit : ℕ) (queue : List ℕ) (room first : ℕ) : Type 0 where
  pub one_room : limit ≡ room
  pub within : first ≤ length queue
  pub settled : none_due mines (take first queue) ≡ true
