-- After any rows of a prompt trace each process that ran and ended has carried its command block, the bytes that it
-- moves and its status; so the trace, its history, the outcomes and the blocks belong together.
use Rattle.right_laws.proofs
use proofs.Names.{◌≡◌, true, ◌∙◌, List, [], ◌∷◌, Option, sym, ap, subst, reverse-reverse, reverse, is_some, Event, Row}
use proofs.Names.{ScenarioValue, Obeys, array_after, disks_of, tapes_of, Array, outcomes, all_carried, Right, Story}
use proofs.Names.{story, trace_history, IsPrompt, IsPlain, or_start, run_state, Stood, NextStood, PlaceFacts}
use proofs.Names.{AreRepliesShown, DataFacts, TellFacts, Whole, standing_next, whole, AllMove, UndoLoadFacts}
use proofs.{Names.{BlockFacts, RightFacts, StatusFacts}, Offers.Facts.{DataOfferFacts, offer_start, offer_next}}
use proofs.Ran.{Blocks.{block_start, block_next}, Carried.{events_carried}, Facts.{Known, right_start, right_next}}
use proofs.{Ran.{Sent.{moves_at_run}, Undone.{load_start, load_next}}, Statuses.Facts.{status_start, status_next}}
use proofs.Statuses.Facts.{status_at_end}

-- ---- what is known of each prefix

-- Where the processes stand in the plain disk array, what the rows tell of them, and that a reply is there exactly
-- where it was shown.
pub record Joined (s : ScenarioValue) (p : List Row) : Type 0 where
  pub stood : Stood s p
  pub told : TellFacts s p
  pub shown : AreRepliesShown s (run_state s p)
  pub places : PlaceFacts s p
  pub pointers : DataFacts s p

abbrev pub AreJoined : ScenarioValue → List Row → Type 0
AreJoined s [] = Joined s []
AreJoined s (row ∷ rows) = AreJoined s rows × NextStood s rows row × Joined s (row ∷ rows)

pub joined_last : (s : ScenarioValue) (p : List Row) → AreJoined s p → Joined s p
joined_last s [] h = h
joined_last s (row ∷ p) h = h.2

-- ---- row by row

pub record RightBooks (s : ScenarioValue) (p : List Row) : Type 0 where
  pub undo : UndoLoadFacts s p
  pub blocks : BlockFacts s p
  pub status : StatusFacts s p
  pub offers : DataOfferFacts s p
  pub right : RightFacts s p

pub right_books : (s : ScenarioValue) (p : List Row) → Obeys s → IsPrompt s p → AreJoined s p → AllMove s p
    → RightBooks s p
right_books s [] o prompt h moves = record {
  undo = load_start s;
  blocks = block_start s;
  status = status_start s;
  offers = offer_start s;
  right = right_start s;
}
right_books s (row ∷ p) o prompt h moves =
    let was = right_books s p o prompt.0 h.0 moves.0 in
    let now = joined_last s p h.0 in
    let then = h.2 in
    let known : Known s p row = record {
      was = now.stood;
      next = h.1;
      items = now.told.items;
      undo = was.undo;
      places = now.places;
      later = then.places;
      shown = now.shown;
    } in
    record {
      undo = load_next s p row o prompt now.stood h.1 was.undo;
      blocks = block_next s p row now.stood h.1 now.told.items was.undo now.places then.places was.blocks;
      status = status_next s p row o prompt now.told.last
          (record { known = known; named = now.told.named; last = then.told.last; facts = was.status });
      offers = offer_next s p row o prompt now.stood h.1 was.offers;
      right = right_next s p row now.stood h.1 now.told.items was.undo now.places then.places now.shown was.blocks
          (moves_at_run s p row o known now.pointers moves.1 moves.2)
          (status_at_end s p row now.stood h.1 now.told was.status) was.right;
    }

-- ---- so it is right

pub carried_rows : (s : ScenarioValue) (p : List Row) → Obeys s → IsPrompt s p → AreJoined s p → AllMove s p
    → all_carried s (story s p) (trace_history s p) ≡ true
carried_rows s p o prompt h moves =
    let k = run_state s p in
    let now = joined_last s p h in
    let books = right_books s p o prompt h moves in
    let pl : IsPlain s p k = now.stood.plain in
    subst (λ (x : Story). all_carried s x x.history ≡ true) pl.story
    (events_carried s k now.places.array k.story.history
    ((λ i. array_after s (pl.story i).history) ∙ sym pl.array ∙ now.places.array_is)
    (ap (or_start s) now.places.array_is) books.right.ran books.right.ended)

pub right_rows : (s : ScenarioValue) (p : List Row) → Obeys s → IsPrompt s p → AreJoined s p → AllMove s p
    → Right s (reverse p) (reverse (trace_history s p)) (outcomes s (story s p))
    (disks_of (array_after s (trace_history s p))) (tapes_of (array_after s (trace_history s p)))
right_rows s p o prompt h moves =
    let rows = reverse-reverse p in
    let history = reverse-reverse (trace_history s p) in
    let now = joined_last s p h in
    let pl : IsPlain s p (run_state s p) = now.stood.plain in
    record {
      told = ap (λ (x : List Row). (story s x).history) rows ∙ sym history;
      permitted =
          ap (λ (x : List Event). is_some (array_after s x)) history ∙ ap is_some (sym pl.array ∙ now.places.array_is);
      blocks = ap (λ (x : List Event). disks_of (array_after s x)) history;
      reels = ap (λ (x : List Event). tapes_of (array_after s x)) history;
      replies = ap (λ (x : List Row). outcomes s (story s x)) rows;
      carried = (λ i. all_carried s (story s (rows i)) (history i)) ∙ carried_rows s p o prompt h moves;
    }

-- ---- of every prompt trace

joined_of : (s : ScenarioValue) (p : List Row) → Whole s p → Joined s p
joined_of s p w = record { stood = w.stood; told = w.facts; shown = w.shown; places = w.places; pointers = w.sends }

pub all_joined : (s : ScenarioValue) (p : List Row) → Obeys s → IsPrompt s p → AreJoined s p
all_joined s [] o prompt = joined_of s [] (whole s [] o prompt)
all_joined s (row ∷ p) o prompt = (
  all_joined s p o prompt.0,
  standing_next s p row o prompt (whole s p o prompt.0),
  joined_of s (row ∷ p) (whole s (row ∷ p) o prompt),
)

pub history_permitted : (s : ScenarioValue) (p : List Row) → Obeys s → IsPrompt s p
    → is_some (array_after s (trace_history s p)) ≡ true
history_permitted s p o prompt =
    let w = whole s p o prompt in
    let pl : IsPlain s p (run_state s p) = w.stood.plain in
    ap (λ (a : Option Array). is_some a) (sym pl.array ∙ w.places.array_is)
