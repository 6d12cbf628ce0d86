-- What is known of the reads after any rows of a prompt trace: where their pointers stand as a byte of DATA IN crosses
-- and as they run, and that as COMMAND is left they have carried no data (6.1.5.1, 6.6.6, 6.6.20).
use Rattle.right_laws.proofs
use proofs.Names.{List, [], ◌∷◌, Row, ScenarioValue, Obeys, process, IsPrompt, RunState, run_state, obeys_fits}
use proofs.Names.{seats_are, writers, least_is, NextStood, data_premises, sent_grows, unshown_ready, left_next}
use proofs.Names.{left_start, Whole, standing_next, whole, RunsLeftOf, GivesBy, UndoLoadFacts}
use proofs.DataIn.{Counts.{IsReader, ReadCounts, ReadRow, counts_first, counts_next}, Ends.{points_at_end}}
use proofs.DataIn.{Pointers.{ReadPointers, points_at, pointers_first, pointers_next}, Unmoved.{IsUnmovedServed}}
use proofs.{DataIn.Unmoved.{none_at_arrival, unmoved_first, unmoved_next}, Offers.Facts.{DataOfferFacts, offer_next}}
use proofs.{Offers.Facts.{offer_start}, Ran.{Facts.{Known}, Undone.{load_next, load_start}}}
use proofs.Replies.Queues.{CleanFacts, SenselessFacts, clean_next, clean_start, senseless_next, senseless_start}
use proofs.Replies.Rows.{stays_so}

pub record ReadBooks (s : ScenarioValue) (p : List Row) : Type 0 where
  pub whole : Whole s p
  pub undo : UndoLoadFacts s p
  pub offers : DataOfferFacts s p
  pub counts : ReadCounts s p
  pub pointers : ReadPointers s p
  pub left : RunsLeftOf IsReader s p
  pub unmoved : IsUnmovedServed s p
  pub senseless : SenselessFacts s p
  pub clean : CleanFacts s p

next_of : (s : ScenarioValue) (p : List Row) (row : Row) → Obeys s → IsPrompt s (row ∷ p) → ReadBooks s p
    → NextStood s p row
next_of s p row o prompt was = standing_next s p row o prompt was.whole

known_of : (s : ScenarioValue) (p : List Row) (row : Row) → Obeys s → IsPrompt s (row ∷ p) → ReadBooks s p
    → Known s p row
known_of s p row o prompt was = record {
  was = was.whole.stood;
  next = next_of s p row o prompt was;
  items = was.whole.facts.items;
  undo = was.undo;
  places = was.whole.places;
  later = (whole s (row ∷ p) o prompt).places;
  shown = was.whole.shown;
}

row_of : (s : ScenarioValue) (p : List Row) (row : Row) → Obeys s → IsPrompt s (row ∷ p) → ReadBooks s p
    → ReadRow s p row
row_of s p row o prompt was = record {
  obeys = o;
  prompt = prompt;
  known = known_of s p row o prompt was;
  offers = was.offers;
  counts = was.counts;
  pointers = was.pointers;
}

pub read_books : (s : ScenarioValue) (p : List Row) → Obeys s → IsPrompt s p → ReadBooks s p
read_books s [] o prompt = record {
  whole = whole s [] o prompt;
  undo = load_start s;
  offers = offer_start s;
  counts = counts_first s;
  pointers = pointers_first s;
  left = left_start IsReader s;
  unmoved = unmoved_first s;
  senseless = senseless_start s;
  clean = clean_start s;
}
read_books s (row ∷ p) o prompt =
    let was = read_books s p o prompt.0 in
    let then = whole s (row ∷ p) o prompt in
    let nx = next_of s p row o prompt was in
    let w = row_of s p row o prompt was in
    let k : RunState = run_state s p in
    record {
      whole = then;
      undo = load_next s p row o prompt was.whole.stood nx was.undo;
      offers = offer_next s p row o prompt was.whole.stood nx was.offers;
      counts = counts_next s p row w;
      pointers = pointers_next s p row w (record {
        anew = (data_premises s p row o prompt was.whole.stood was.whole.facts.items (λ n alone after. unshown_ready s p
            n was.whole.stood.standing.devices was.whole.places was.whole.shown alone)).anew;
        items = then.facts.items;
        sent = λ id served. sent_grows s k row (process id) (was.whole.places.sent id served);
        offers = was.whole.facts.offers;
      });
      left = left_next IsReader s p row o prompt was.whole.stood nx was.whole.holds was.pointers then.places was.left;
      unmoved = unmoved_next s p row o prompt w.known was.whole.instructed was.unmoved;
      senseless = senseless_next s p row w.known was.senseless;
      clean = clean_next s p row k.progress (writers s p) w.known
          (none_at_arrival s p row prompt w.known was.whole.instructed was.whole.commands was.unmoved) was.senseless
          was.whole.writes.units was.clean;
    }

-- So this holds of each row.
pub gives_by : (s : ScenarioValue) (p : List Row) (row : Row) → Obeys s → IsPrompt s (row ∷ p)
    → GivesBy s (run_state s p) row
gives_by s p row o prompt =
    let was = read_books s p o prompt.0 in
    let then = read_books s (row ∷ p) o prompt in
    let w = row_of s p row o prompt was in
    record {
      points = points_at s p row w;
      arrives = none_at_arrival s p row prompt w.known was.whole.instructed was.whole.commands was.unmoved;
      whole = points_at_end s p row w was.whole then.whole was.left;
      stays = stays_so s p row (record {
        seats = seats_are s (obeys_fits s o);
        inside = (least_is s p row prompt.1).inside;
        known = w.known;
        empty = then.whole.writes.reset;
        senseless = was.senseless;
        senseless_then = then.senseless;
        clean = then.clean;
      });
    }
