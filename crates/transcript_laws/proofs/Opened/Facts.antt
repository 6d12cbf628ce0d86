-- All that is kept of the connection of a transcript, row by row of a prompt trace.
use Rattle.transcript_laws.proofs
use proofs.Names.{◌≡◌, ◌∙◌, ◌==◌, Bool, true, false, List, ◌∷◌, Option, Some, None, refl, sym, ap, if◌then◌else◌, wrong}
use proofs.Names.{wrong', connection, bus, Connection, Row, Handshakes, ScenarioValue, Obeys, events_link, RowReading}
use proofs.Names.{row_reading, row_events_by, Item, process, abort, Link, link_of, Story, aim_of, story_on_bus}
use proofs.Names.{story_by_change, story_after_connection, story_with_restored, story_with_sent, IsPrompt, RunState}
use proofs.{Names.{run_state, OpenedValue, opened_connection, transcribed}, Held.Last.{HeldLast, held_row}}
use proofs.{Held.Since.{HeldSince, since_row}, Opened.{Bytes.{OpenedBytes, bytes_hold}, Rows.{Starts, Holds, always}}}
use proofs.{Said.Words.{SaidWords, words_hold}, Talks.{Named.{TalkNamed, named_row}, Status.{StatusTalk}}}
use proofs.Talks.Status.{status_starts, status_row}
use Rattle.due_model.specs.story_model.specs.HistoryEvents as story_of

pub record OpenedAll (k : RunState) (n : Connection) (o : OpenedValue) : Type 0 where
  pub bytes : OpenedBytes k n o
  pub words : SaidWords k n o
  pub last : HeldLast k o
  pub named : TalkNamed k n o
  pub since : HeldSince k o
  pub status : StatusTalk k o

-- ---- the first row: no message has told that the connection ends

abbrev completes : Option Link → Bool
completes None = false
completes (Some l) = story_of.is_complete l.last

first_last : (b : Story) (n : Connection) → completes (story_after_connection b n).link ≡ false
first_last b n = go n.reselected (aim_of b.aims n.initiator)
  where
    go : (q : Bool) (item : Option Item) → completes (if q then record b { link = Some (link_of n None) }
        else story_with_restored (story_with_sent (record b { link = Some (link_of n item) }) item) item).link ≡ false
    go true item = refl
    go false None = refl
    go false (Some (process id)) = refl
    go false (Some (abort j)) = refl

starts_last : (s : ScenarioValue) (p : List Row) (row : Row) (n : Connection) → Starts s p row n
    → completes (run_state s (row ∷ p)).story.link ≡ false
starts_last s p row n h =
    let k : RunState = run_state s p in
    let d : RowReading = row_reading k.story.bus_state row in
    ap completes (events_link s (story_by_change s k.story d row) (row_events_by s k.story d row))
    ∙ ap (λ (q : Bool). completes (if q then record k.story { link = None }
    else story_on_bus s k.story k.story.bus_state.connection d.next d row).link) h.off
    ∙ (λ i. completes (story_on_bus s k.story (h.alone i) (h.next i) d row).link) ∙ first_last k.story n

pub all_hold : (s : ScenarioValue) → Holds s OpenedAll
all_hold s = record {
  begins = λ p row n starts now con calm b out fresh. record {
    bytes = (bytes_hold s).begins p row n starts now con calm b out fresh;
    words = (words_hold s).begins p row n starts now con calm b out fresh;
    last = record {
      same = λ no l el. ap completes (sym el) ∙ starts_last s p row n starts;
      out = λ l el z. wrong' (sym (ap completes (sym el) ∙ starts_last s p row n starts) ∙ z);
    };
    named = record { named = λ re z. wrong z; nameless = λ re z. wrong z };
    since = record {
      in_held = λ x. wrong' (sym x.some ∙ ap (λ (h : Handshakes). h.requests == 0) (fresh x.here));
      in_since = λ x. wrong' (sym x.some ∙ ap (λ (h : Handshakes). h.requests == 0) (fresh x.here));
      in_backed = λ x. wrong' (sym x.some ∙ ap (λ (h : Handshakes). h.requests == 0) (fresh x.here));
      out_held = λ x. wrong (sym x.here ∙ out);
      out_since = λ x. wrong (sym x.here ∙ out);
      out_backed = λ x. wrong (sym x.here ∙ out);
    };
    status = status_starts s p row n (opened_connection n) starts b (λ re. now.facts.named n con calm re);
  };
  goes_on = λ p row n g o after made h. record {
    bytes = (bytes_hold s).goes_on p row n g o after made h.bytes;
    words = (words_hold s).goes_on p row n g o after made h.words;
    last = held_row s p row n g o after made h.bytes h.words h.last;
    named = named_row s p row n g o after made h.last h.named;
    since = since_row s p row n g o after made h.last h.bytes h.named h.since;
    status = status_row s p row n g o after made h.status;
  };
}

pub opened_all : (s : ScenarioValue) → Obeys s → (p : List Row) → IsPrompt s p → (n : Connection)
    → connection p ≡ Some n → (bus p).rst ≡ false → (o : OpenedValue) → (transcribed p).opened ≡ Some o
    → OpenedAll (run_state s p) n o
opened_all s o p prompt n con calm k there = always s OpenedAll o (all_hold s) p prompt n con calm k there
