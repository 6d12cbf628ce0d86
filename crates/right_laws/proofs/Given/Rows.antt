-- A process that runs with any row of a prompt trace, and is no write that ends GOOD, has carried the bytes of its
-- reply, by what is asked of its data pointers, of its arrival and of its reply (6.1.5.1, 6.6.20, 7.3).
use Rattle.right_laws.proofs
use proofs.Names.{ℕ, ◌≤◌, arith, List, [], ◌∷◌, length, Row, ScenarioValue, Obeys, IsPrompt, carried_here, run_state}
use proofs.Names.{obeys_fits, seats_are, NextStood, GivesAtRun, AllMove, GivenFacts, GivesAsked, GivesBy, AllGiveBy}
use proofs.{Names.{UndoLoadFacts}, DataIn.Facts.{gives_by}, Given.Bytes.{given_start, given_next, gives_at_run}}
use proofs.Given.{Crossings.{gives_crossing}, Sent.{sends_at_run}, Standing.{all_stand}}
use proofs.{Offers.Facts.{DataOfferFacts, offer_start, offer_next}, Ran.{Facts.{Known}, Right.{Joined, AreJoined}}}
use proofs.{Ran.{Right.{all_joined, joined_last}, Undone.{load_start, load_next}}, Replies.Same.{reply_stays_by}}

pub record GivenBooks (s : ScenarioValue) (p : List Row) : Type 0 where
  pub undo : UndoLoadFacts s p
  pub offers : DataOfferFacts s p
  pub given : GivenFacts s p

known_of : (s : ScenarioValue) (p : List Row) (row : Row) → Joined s p → NextStood s p row → Joined s (row ∷ p)
    → GivenBooks s p → Known s p row
known_of s p row now next then books = record {
  was = now.stood;
  next = next;
  items = now.told.items;
  undo = books.undo;
  places = now.places;
  later = then.places;
  shown = now.shown;
}

reaches : (a b c : ℕ) → a ≤ b → b ≤ c → a ≤ c
reaches a b c h k = omega (arith, h, k)

asked_of : (s : ScenarioValue) (p : List Row) (row : Row) → Obeys s → IsPrompt s (row ∷ p) → Joined s p
    → NextStood s p row → Joined s (row ∷ p) → GivenBooks s p → GivesBy s (run_state s p) row
    → GivesAsked s (run_state s p) row
asked_of s p row o prompt now next then books by = record {
  crosses = gives_crossing s p row o prompt (known_of s p row now next then books) books.offers now.pointers.counts
      (all_stand s p) by.points;
  arrives = by.arrives;
  whole = λ q reply is reads. reaches (length reply.bytes) (carried_here (run_state s p) q.id).moved.active
      (length (carried_here (run_state s p) q.id).moved.bytes) (by.whole q reply is reads)
      ((all_stand s p).each q.id).active_in;
  stays = reply_stays_by s p row (seats_are s (obeys_fits s o)) (known_of s p row now next then books) by.stays;
}

pub given_books : (s : ScenarioValue) (p : List Row) → Obeys s → IsPrompt s p → AreJoined s p → AllGiveBy s p
    → GivenBooks s p
given_books s [] o prompt h by = record { undo = load_start s; offers = offer_start s; given = given_start s }
given_books s (row ∷ p) o prompt h by =
    let was = given_books s p o prompt.0 h.0 by.0 in
    let now = joined_last s p h.0 in
    record {
      undo = load_next s p row o prompt now.stood h.1 was.undo;
      offers = offer_next s p row o prompt now.stood h.1 was.offers;
      given = given_next s p row (known_of s p row now h.1 h.2 was)
          (asked_of s p row o prompt now h.1 h.2 was by.1) was.given;
    }

pub gives_with : (s : ScenarioValue) (p : List Row) (row : Row) → Obeys s → IsPrompt s (row ∷ p) → AreJoined s (row ∷ p)
    → AllGiveBy s (row ∷ p) → GivesAtRun s (run_state s p) row
gives_with s p row o prompt h by =
    let was = given_books s p o prompt.0 h.0 by.0 in
    let now = joined_last s p h.0 in
    gives_at_run s p row (seats_are s (obeys_fits s o)) (known_of s p row now h.1 h.2 was)
    (asked_of s p row o prompt now h.1 h.2 was by.1) was.given

-- ---- of every prompt trace

pub all_give_by : (s : ScenarioValue) (p : List Row) → Obeys s → IsPrompt s p → AllGiveBy s p
all_give_by s [] o prompt = tt
all_give_by s (row ∷ p) o prompt = (all_give_by s p o prompt.0, gives_by s p row o prompt)

pub all_move : (s : ScenarioValue) (p : List Row) → Obeys s → IsPrompt s p → AllMove s p
all_move s [] o prompt = tt
all_move s (row ∷ p) o prompt = (
  all_move s p o prompt.0,
  sends_at_run s p row o prompt,
  gives_with s p row o prompt (all_joined s (row ∷ p) o prompt) (all_give_by s (row ∷ p) o prompt),
)
