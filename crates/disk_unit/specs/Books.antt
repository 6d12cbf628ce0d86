-- What a unit keeps of its commands, and for each initiator, and what each call does to that.
use Rattle.std.specs.Prelude.{◌≡◌, ℕ, ◌<◌, ◌==◌, Bool, true, false, not, ◌&&◌, List, [], ◌∷◌, Option, Some, None}
use Rattle.std.specs.Prelude.{is_some, replicate, length, slice_set, slice_index_or, take, if◌then◌else◌}
use Rattle.bus_base.specs.declared.events.Pick.{Pick}
use Rattle.cdb_codec.specs.declared.Sense.{Sense}
use Rattle.array_model.specs.declared.entries.Entry.{Entry}
use Rattle.array_model.specs.Execution.{no_sense, reset_occurred}
use Rattle.array_model.specs.Seats.{attention_if_told}
use Rattle.tag_queue.specs.Queue.{Queued, QueueState, empty_queue, queue_with, queue_started, queue_without}
use Rattle.tag_queue.specs.Queue.{queue_cleared_of, with_held, with_none_held, entry_at, chosen_key, has_any}
use Rattle.tag_queue.specs.declared.those.Those.{Those}
use Rattle.tag_queue.specs.declared.those.Those.TheVariants as those
use Rattle.disk_unit.specs.declared.command_block.CommandBlock.{CommandBlock}

pub record UnitBooks : Type 0 where
  pub queue : QueueState
  -- the command descriptor block of each live command, by its key
  pub blocks : List (List ℕ)
  -- by initiator, 0 to 7
  pub senses : List (Option Sense)
  pub attentions : List (Option Sense)

abbrev pub block_bytes : CommandBlock → List ℕ
block_bytes block = take block.len block.bytes

abbrev pub blocks_of : List CommandBlock → List (List ℕ)
blocks_of [] = []
blocks_of (block ∷ blocks) = block_bytes block ∷ blocks_of blocks

abbrev pub block_at : UnitBooks → ℕ → List ℕ
block_at b key = slice_index_or b.blocks key []

-- Every key is below this number, and every command is of an initiator 0 to 7.
abbrev pub AreBounded : ℕ → List Queued → Type 0
AreBounded keys [] = Unit {0}
AreBounded keys (q ∷ queued) = (q.key < keys) × (q.entry.from < 8) × AreBounded keys queued

abbrev pub empty_books : ℕ → ℕ → List (List ℕ) → UnitBooks
empty_books depth keys blocks =
    record { queue = empty_queue depth keys; blocks = blocks; senses = replicate 8 None; attentions = replicate 8 None }

-- ---- a command arrives, is chosen, leaves

abbrev pub books_with : UnitBooks → ℕ → Entry → List ℕ → UnitBooks
books_with b key entry cdb = record b { queue = queue_with b.queue key entry; blocks = slice_set b.blocks key cdb }

abbrev pub choice_of : UnitBooks → Pick → Option ℕ
choice_of b pick = if is_some b.queue.current then None else chosen_key b.queue pick

abbrev pub books_with_current : UnitBooks → Option ℕ → UnitBooks
books_with_current b None = b
books_with_current b (Some key) = record b { queue = queue_started b.queue key }

abbrev pub books_after_choice : UnitBooks → Pick → UnitBooks
books_after_choice b pick = books_with_current b (choice_of b pick)

abbrev pub books_without : UnitBooks → ℕ → UnitBooks
books_without b key = record b { queue = queue_without b.queue key }

-- ---- senses and the hold

abbrev pub books_with_sense : UnitBooks → ℕ → Sense → UnitBooks
books_with_sense b dev sense =
    record b { queue = with_held b.queue dev true; senses = slice_set b.senses dev (Some sense) }

abbrev pub books_without_sense : UnitBooks → ℕ → UnitBooks
books_without_sense b dev = record b { queue = with_held b.queue dev false; senses = slice_set b.senses dev None }

abbrev pub sense_or_none : Option Sense → Sense
sense_or_none None = no_sense
sense_or_none (Some sense) = sense

abbrev pub books_with_status : UnitBooks → ℕ → Option Sense → UnitBooks
books_with_status b dev None = b
books_with_status b dev (Some sense) = books_with_sense b dev sense

abbrev pub books_after_end : UnitBooks → ℕ → ℕ → Option Sense → UnitBooks
books_after_end b key dev sense = books_with_status (books_without b key) dev sense

-- ---- attentions

abbrev pub books_without_attention : UnitBooks → ℕ → UnitBooks
books_without_attention b dev = record b { attentions = slice_set b.attentions dev None }

-- ---- aborts and resets

abbrev pub books_without_those : UnitBooks → Those → UnitBooks
books_without_those b who = record b { queue = queue_cleared_of b.queue who }

abbrev pub books_after_abort : UnitBooks → ℕ → UnitBooks
books_after_abort b dev = books_without_sense (books_without_those b (those.Of dev)) dev

abbrev pub books_after_abort_tag : UnitBooks → ℕ → ℕ → UnitBooks
books_after_abort_tag b dev n = books_without_those b (those.Tagged dev n)

abbrev pub is_told : ℕ → List Queued → ℕ → Bool
is_told by lost dev = has_any (those.Of dev) lost && not (dev == by)

-- The books before and after CLEAR QUEUE of an initiator.
pub record IsCleared (by : ℕ) (old new : UnitBooks) : Type 0 where
  pub queue : new.queue ≡ queue_cleared_of old.queue those.All
  pub blocks : new.blocks ≡ old.blocks
  pub senses : new.senses ≡ old.senses
  pub eight : length new.attentions ≡ 8
  pub attentions : (dev : ℕ) → dev < 8 → slice_index_or new.attentions dev None
      ≡ attention_if_told (is_told by old.queue.arrived dev) (slice_index_or old.attentions dev None)

abbrev pub books_after_reset : UnitBooks → UnitBooks
books_after_reset b = record b {
  queue = with_none_held (queue_cleared_of b.queue those.All);
  senses = replicate 8 None;
  attentions = replicate 8 (Some reset_occurred);
}

-- ---- the command of a key

abbrev pub initiator_of : Option Entry → ℕ
initiator_of None = 0
initiator_of (Some entry) = entry.from

abbrev pub initiator_at : UnitBooks → ℕ → ℕ
initiator_at b key = initiator_of (entry_at b.queue.arrived key)

abbrev pub attention_at : UnitBooks → ℕ → Option Sense
attention_at b key = slice_index_or b.attentions (initiator_at b key) None
