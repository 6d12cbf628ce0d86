-- Row by row of a prompt trace: all that is asked of its rows, and what is kept with them.
use Rattle.trace_laws.proofs
use proofs.Names.{◌≡◌, ◌⊎◌, inl, inr, ◌<◌, Bool, true, false, ◌∙◌, List, [], ◌∷◌, Option, Some, None, refl, sym, ap}
use proofs.Names.{and_from, same_Some, if◌then◌else◌, is_some, change_of, changes_phase, is_message_in, call}
use proofs.Names.{connection, connection_after, bus, Row, Change, Connection, ScenarioValue, Obeys, Array, RowReading}
use proofs.Names.{row_reading, allowed, IsLeast, due, IsPrompt, run_state, telling, obeys_fits, seats_are, units_are}
use proofs.Names.{heard, written, AreRowsOf, complains_truly, left_as_due, change_plain, least_is, obeys_latencies}
use proofs.Names.{runs_are_short, commands_are, byte_values, none_some, ends_on, left_row, NextStood, Stood, next_stood}
use proofs.Names.{stood_first, replies_first, replies_next, IsAsked, AttendedFacts, is_marked, AreEnds, PlaceFacts}
use proofs.Names.{AreRepliesShown, FailsAsLeft, TellsAsLeft, WriteFacts, WritesAsked, command_start, command_asks}
use proofs.Names.{command_next, complained_row, complaints_next, complaints_start, instructed_next, instructed_start}
use proofs.Names.{IsUnshown, data_premises, calm_after, calm_before, items_asks, named_asks, named_at_run, offers_asks}
use proofs.Names.{left_tells, tell_next, tell_start, undo_asks, CommandFacts, ComplaintFacts, DataFacts}
use proofs.Names.{InstructedFacts, IsAttended, IsCalmTurn, TellFacts, ClearFacts, CloseFacts, FailFacts, ResetFacts}
use proofs.{Names.{RunsLeft, SentFacts}, Attended.{Asks.{attendance_asked}, Facts.{attended_row}, Next.{attended_next}}}
use proofs.{Attended.{Next.{attended_start}, Told.{tells_row}}, Clear.Facts.{clear_asks, clear_next, clear_start}}
use proofs.{Closes.Facts.{close_next, close_start}, Failures.Crossed.{CrossedFacts, crossed_next, crossed_start}}
use proofs.{Failures.{Facts.{fail_start}, First.{fail_rows}, Left.{fails_as_left}}, Heard.Places.{begins_placed}}
use proofs.{Heard.{Places.{places_heard}, Rows.{HeardFacts, heard_row}}, Places.{Facts.{place_row}, Rows.{allowed_row}}}
use proofs.{Places.{Rows.{places_start}, Unshown.{unshown_ready}}, Resets.Facts.{resets_next, resets_start}}
use proofs.{Resets.Holds.{HoldFacts, cut_phase, holds_next, holds_start}, Runs.AllSent.{whole_as_left}}
use proofs.Runs.{Data.{data_asks, data_next, data_start}, Left.{runs_left_next, runs_left_start}}
use proofs.{Sent.Facts.{sent_asks, sent_next, sent_start}, Statuses.Facts.{StatusFacts, status_asks, status_next}}
use proofs.{Statuses.Facts.{status_start}, Writes.{Facts.{writes_next, writes_start}, Premises.{write_premises}}}
use proofs.Writes.Written.{written_next}

-- What is kept of the lines and of what is said.
pub record Whole (s : ScenarioValue) (p : List Row) : Type 0 where
  pub stood : Stood s p
  pub rows_are : AreRowsOf s p
  pub facts : TellFacts s p
  pub commands : CommandFacts s p
  pub sends : DataFacts s p
  pub holds : HoldFacts p
  pub resets : ResetFacts s p
  pub complaints : ComplaintFacts s p
  pub crossed : CrossedFacts s p
  pub fails : FailFacts s p
  pub sent : SentFacts s p
  pub clear : ClearFacts s p
  pub places : PlaceFacts s p
  pub shown : AreRepliesShown s (run_state s p)
  pub statuses : StatusFacts s p
  pub closes : CloseFacts s p
  pub instructed : InstructedFacts s p
  pub writes : WriteFacts s p
  pub attends : AttendedFacts s p
  pub runs_left : RunsLeft s p
  pub ends : AreEnds s p
  pub left : left_as_due s p ≡ true
  pub complains : complains_truly s p ≡ true
  pub told : telling s p ≡ true
  pub permitted : allowed s p ≡ true
  pub hears : heard s p ≡ true
  pub wrote : written s p ≡ true

first : (s : ScenarioValue) → Obeys s → Whole s []
first s o = record {
  stood = stood_first s (units_are s (obeys_fits s o));
  rows_are = tt;
  facts = tell_start s;
  commands = command_start s;
  sends = data_start s;
  holds = holds_start;
  resets = resets_start s;
  complaints = complaints_start s;
  crossed = crossed_start s;
  fails = fail_start s;
  sent = sent_start s;
  clear = clear_start s;
  places = places_start s (seats_are s (obeys_fits s o));
  shown = replies_first s;
  statuses = status_start s;
  closes = close_start s;
  instructed = instructed_start s;
  writes = writes_start s;
  attends = attended_start s;
  runs_left = runs_left_start s;
  ends = λ n e. none_some n e;
  left = refl;
  complains = refl;
  told = refl;
  permitted = refl;
  hears = refl;
  wrote = refl;
}

-- What is asked of the next row.
asked : (s : ScenarioValue) (p : List Row) (row : Row) → Obeys s → IsPrompt s (row ∷ p) → Whole s p → IsAsked s p row
asked s p row o prompt was n con calm off =
    let c = command_asks s p row o prompt was.stood was.commands n con calm off in
    let d = data_asks s p row n o prompt was.stood was.sends con calm off in
    record {
      names = items_asks s p row n o prompt was.stood was.facts.items con calm off;
      pointers = λ pr e f. record { command = c.pointer pr e f; moved = d.moved pr e f };
      runs = λ f pr t ep et ef. record {
        named = named_at_run s p n was.facts.named con calm ef;
        active_is = d.active_is f pr t ep et ef;
      };
      named = named_asks s p row n o prompt was.stood was.facts.named con calm off;
      settles = offers_asks s p row n o prompt was.stood was.facts.offers con calm off;
      command = c.command;
    }

-- A phase is left while RST is false, or it is MESSAGE IN.
calm : (s : ScenarioValue) (p : List Row) (row : Row) → Obeys s → IsPrompt s (row ∷ p) → Whole s p → row.dev < 8
    → IsCalmTurn (row_reading (run_state s p).story.bus_state row)
calm s p row o prompt was lt stands ep = go (connection p) refl (connection (row ∷ p)) refl
  where
    d : RowReading
    d = row_reading (run_state s p).story.bus_state row

    c : d.change ≡ change_of p row
    c = change_plain s row p was.stood.standing.devices lt

    next_is : d.next ≡ connection (row ∷ p)
    next_is = λ i. connection_after (was.stood.plain.connection i) (was.stood.plain.call i) (c i) row

    by_rst : (n : Connection) → connection p ≡ Some n → connection (row ∷ p) ≡ Some n
        → (a b : Bool) → (bus p).rst ≡ a → (bus (row ∷ p)).rst ≡ b
        → ((d.change.before.rst ≡ false) × (d.change.after.rst ≡ false)) ⊎ (is_message_in d.change.before ≡ true)
    by_rst n con after false false e f =
        inl (ap (λ (x : Change). x.before.rst) c ∙ e, ap (λ (x : Change). x.after.rst) c ∙ f)
    by_rst n con after true b e f = inr (ap (λ (x : Change). is_message_in x.before) c
        ∙ cut_phase s p row n o prompt was.stood was.holds con after (inl e) (ap changes_phase (sym c) ∙ ep))
    by_rst n con after false true e f = inr (ap (λ (x : Change). is_message_in x.before) c
        ∙ cut_phase s p row n o prompt was.stood was.holds con after (inr f) (ap changes_phase (sym c) ∙ ep))

    same : (m n : Connection) (q : Bool) → (if q then Some m else None) ≡ Some n → m ≡ n
    same m n true e = same_Some m n e
    same m n false e = none_some n e

    go : (x : Option Connection) → connection p ≡ x → (y : Option Connection) → connection (row ∷ p) ≡ y
        → ((d.change.before.rst ≡ false) × (d.change.after.rst ≡ false)) ⊎ (is_message_in d.change.before ≡ true)
    go x e None f = absurd (not_some (sym (ap (λ (z : Option Connection). is_some z) (next_is ∙ f)) ∙ stands))
      where
        not_some : false ≡ true → ⊥
        not_some z = absurd cc
    go None e (Some n) f = inl (apart e f)
      where
        -- as a connection begins, no RST is true
        apart : connection p ≡ None → connection (row ∷ p) ≡ Some n
            → (d.change.before.rst ≡ false) × (d.change.after.rst ≡ false)
        apart e f = (
          ap (λ (x : Change). x.before.rst) c ∙ calm_before s p row n o prompt was.stood e f,
          ap (λ (x : Change). x.after.rst) c ∙ calm_after p row n e f,
        )
    go (Some m) e (Some n) f =
        let is = same m n (bus (row ∷ p)).bsy (sym (λ i. connection_after (e i) (call p) (change_of p row) row) ∙ f) in
        by_rst n (e ∙ ap (λ (z : Connection). Some z) is) f (bus p).rst (bus (row ∷ p)).rst refl refl

-- The lines after the next row.
pub standing_next : (s : ScenarioValue) (p : List Row) (row : Row) → Obeys s → IsPrompt s (row ∷ p) → Whole s p
    → NextStood s p row
standing_next s p row o prompt was =
    let fits = obeys_fits s o in
    next_stood s p row (units_are s fits) (seats_are s fits) (commands_are s o)
    (λ q n dv. byte_values s q n o (seats_are s fits) dv) (obeys_latencies s o) (runs_are_short s fits) was.stood
    (asked s p row o prompt was) (least_is s p row prompt.1)

-- What of it the events rest on.
pub record RowSteps (s : ScenarioValue) (p : List Row) (row : Row) : Type 0 where
  pub stood : NextStood s p row
  pub facts : TellFacts s (row ∷ p)
  pub commands : CommandFacts s (row ∷ p)
  pub fails : FailsAsLeft s p row
  pub tells : TellsAsLeft s p row
  pub places : PlaceFacts s (row ∷ p)
  pub instructed : InstructedFacts s (row ∷ p)
  pub writes : WritesAsked s p row

pub steps : (s : ScenarioValue) (p : List Row) (row : Row) → Obeys s → IsPrompt s (row ∷ p) → Whole s p
    → RowSteps s p row
steps s p row o prompt was =
    let nx = standing_next s p row o prompt was in
    let fails = fails_as_left s p row o prompt was.stood
    (sent_asks s p row o prompt was.stood was.facts was.sent) was.fails in
    let tells = left_tells s p row o prompt was.stood was.facts fails in
    record {
      stood = nx;
      facts = tell_next s p row o prompt was.stood nx was.facts;
      commands = command_next s p row o prompt was.stood was.facts.offers nx was.commands;
      fails = fails;
      tells = tells;
      places = place_row s p row o prompt was.stood nx was.facts was.shown was.places was.closes tells
          (status_asks s p row o prompt was.stood nx was.facts was.statuses);
      instructed = instructed_next s p row o prompt was.stood nx was.facts.offers was.commands was.instructed;
      writes = write_premises s p row o prompt was.stood was.places was.sends was.resets;
    }

-- What a target has heard after the row.
heard_next : (s : ScenarioValue) (p : List Row) (row : Row) → Obeys s → IsPrompt s (row ∷ p) → Whole s p
    → RowSteps s p row → heard s (row ∷ p) ≡ true
heard_next s p row o prompt was g =
    let begins = begins_placed s p row o prompt was.stood g.stood was.facts.items was.places in
    let at : HeardFacts s (row ∷ p) = record {
      stood = g.stood.stood;
      commands = g.commands;
      named = g.facts.named;
      told = g.instructed;
      placed = places_heard s (row ∷ p) g.stood.stood.standing.devices g.places;
    } in
    and_from (heard s p) _ was.hears (heard_row s p row o prompt was.stood begins at)

next : (s : ScenarioValue) (p : List Row) (row : Row) → Obeys s → IsPrompt s (row ∷ p) → Whole s p → Whole s (row ∷ p)
next s p row o prompt was =
    let k = run_state s p in
    let m : IsLeast (due s p) 8 row = least_is s p row prompt.1 in
    let g = steps s p row o prompt was in
    let nx = g.stood in
    let left = left_row s p row o prompt was.stood m.inside nx.obeys in
    let truly = complained_row s p row o prompt was.stood nx
    (λ stands ep. calm s p row o prompt was m.inside stands ep) was.complaints in
    let row_told = tells_row s p row o prompt was.stood was.shown
    (ap (λ (a : Option Array). is_some a) was.places.array_is) g.tells in
    let sent = sent_asks s p row o prompt was.stood was.facts was.sent in
    let unshown : (n : Connection) → connection p ≡ None → connection (row ∷ p) ≡ Some n → IsUnshown s k n =
    λ n alone after. unshown_ready s p n was.stood.standing.devices was.places was.shown alone in
    let attends = attendance_asked s p row nx.stood.standing.devices was.places g.places g.fails in
    record {
      stood = nx.stood;
      rows_are = (was.rows_are, nx.row_is);
      facts = g.facts;
      commands = g.commands;
      sends = data_next s p row o prompt was.stood nx was.facts.offers
          (data_premises s p row o prompt was.stood was.facts.items unshown) was.sends;
      holds = holds_next s p row o prompt was.stood nx was.holds;
      resets = resets_next s p row o prompt was.stood nx was.resets;
      complaints = complaints_next s p row o prompt was.stood nx was.facts.offers was.complaints;
      crossed = crossed_next s p row o prompt was.stood nx;
      fails = fail_rows s p row o prompt was.stood nx was.facts was.crossed sent
          (clear_asks s p row o prompt was.stood was.facts.items unshown was.clear) was.fails;
      sent = sent_next s p row o prompt was.stood nx was.facts was.fails was.crossed was.complaints was.sent;
      clear = clear_next s p row o prompt was.stood nx was.facts was.fails was.places g.facts.items sent was.clear;
      places = g.places;
      shown = replies_next s k row (ap (λ (a : Option Array). is_some a) g.places.array_is)
          (undo_asks is_marked s p row was.stood nx was.facts.undo) was.shown;
      statuses = status_next s p row o prompt was.stood nx was.facts was.places g.places g.fails was.statuses;
      closes = close_next s p row o prompt was.stood nx was.facts was.places g.places was.closes;
      instructed = g.instructed;
      writes =
          writes_next s p row o prompt was.stood nx was.facts.items was.commands was.instructed g.writes was.writes;
      attends = attended_next s p row (record {
        obeys = o;
        prompt = prompt;
        stood = was.stood;
        next = nx;
        told = was.instructed;
        told_next = g.instructed;
        asked = attends;
        facts = was.attends;
      });
      runs_left = runs_left_next s p row o prompt was.stood nx was.holds was.sends.runs g.places was.runs_left;
      ends = ends_on s p row (obeys_fits s o) was.stood nx.stood m.inside nx.obeys was.ends;
      left = and_from (left_as_due s p) _ was.left left;
      complains = and_from (complains_truly s p) _ was.complains truly;
      told = and_from (telling s p) _ was.told row_told;
      permitted = and_from (allowed s p) _ was.permitted (allowed_row s p row g.places);
      hears = heard_next s p row o prompt was g;
      wrote = written_next s p row o prompt was.stood nx was.commands was.instructed g.writes was.writes was.wrote;
    }

pub whole : (s : ScenarioValue) (p : List Row) → Obeys s → IsPrompt s p → Whole s p
whole s [] o prompt = first s o
whole s (row ∷ p) o prompt = next s p row o prompt (whole s p o prompt.0)

-- What a row shows in a connection.
pub row_attendance : (s : ScenarioValue) (p : List Row) (row : Row) → Obeys s → IsPrompt s (row ∷ p)
    → IsAttended s p row
row_attendance s p row o prompt =
    let was = whole s p o prompt.0 in
    let g = steps s p row o prompt was in
    record {
      shows = attended_row s p row o prompt was.stood was.commands was.instructed
          (attendance_asked s p row g.stood.stood.standing.devices was.places g.places g.fails) was.attends;
      whole = whole_as_left s p row o prompt was.stood g.stood was.facts was.commands was.instructed g.writes was.writes
          was.sends.runs was.places was.runs_left was.shown g.fails;
      turn = calm s p row o prompt was (least_is s p row prompt.1).inside;
    }
