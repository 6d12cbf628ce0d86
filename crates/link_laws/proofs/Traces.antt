-- Rows of prompt traces, connections and all.
use Rattle.link_laws.proofs
use proofs.Names.{◌≡◌, ◌≤◌, Bool, true, false, not, ◌&&◌, ◌∙◌, List, [], ◌∷◌, None, refl, sym, ap, subst, arith}
use proofs.Names.{and_parts, is_some, and_false, implied, since_le, LineSet, data_of, connection, bus, last_time, since}
use proofs.Names.{line_times, phase_time, Row, Connection, Duty, ScenarioValue, IsLeast, due, IsPrompt, AreOfDevices}
use proofs.Names.{raises, least_is, standing_first, stage_first, standing_after, standing_next, from_stage}
use proofs.Names.{ahead_with_resets, by_reset, by_calm, reset_or_calm, EndLines, Linked, BeginsConnection, by_selection}
use proofs.Names.{by_reselection, HasShortLatencies, BusStage, on_free_bus, in_arbitration, after_arbitration}
use proofs.Names.{with_both_ids, awaiting_answer, after_withdrawal, after_answer, after_takeover, in_reset}
use proofs.Names.{in_connection, Standing, NextRow, is_connected, has_odd_byte, has_whole_messages, has_whole_command}
use proofs.Names.{frees_in_time, KeepsBooksIn, in_connections, have_odd_bytes, have_whole_messages, have_whole_commands}
use proofs.Names.{free_in_time, LinkStage, when_selected, when_settling, when_turning, when_offering, when_shaking}
use proofs.{Names.{when_pulsing, AnyStage, apart, linked, NextAny, fits_duty, is_owed_out}, Dues.Facts.{stage_ahead}}
use proofs.{FromLink.{from_link}, Phases.{Ends.{AfterLink, goes_on, frees}, First.{below_differs}}}
use proofs.Runs.Lengths.{HasShortRuns}

-- ---- a connection begins

first_stage : (s : ScenarioValue) (p : List Row) (n : Connection) → since data_of p ≤ last_time p → BeginsConnection p n
    → LinkStage s p n
first_stage s p n past (by_selection h) = when_selected h
first_stage s p n past (by_reselection y h) = when_settling true false true true true y (record {
  linked = h.linked;
  phase = record {
    begun_is = h.begun_is;
    began = let u = h.began in let w = h.msg_age in omega arith;
    known = refl;
    asks = refl;
    owes = ap (λ (d : Duty). fits_duty d false true) h.duty_is;
  };
  quiet = h.handshakes_are;
  pulses_are = h.pulses_are;
  receiver_is = h.receiver_is;
  unturned = below_differs (line_times p).io (phase_time (line_times p))
      (let u = h.io_age in let w = h.msg_age in omega arith);
  duty_is = ap (λ (d : Duty). is_owed_out d true) h.duty_is;
  side = refl;
  turned = λ a b. let w = sym a ∙ h.turned_is in absurd cc;
  driven = let w = h.msg_age in omega arith;
  fresh = let w = h.msg_age in omega arith;
  hands = λ b. let u = h.sel_age in let w = h.msg_age in (refl, omega arith, omega arith);
})

record Begun (s : ScenarioValue) (p : List Row) : Type 0 where
  pub n : Connection
  pub calm : (bus p).rst ≡ false
  pub begins : BeginsConnection p n

not_apart : (s : ScenarioValue) (p : List Row) → connection p ≡ None → is_connected p ≡ true → Begun s p
not_apart s p e z = let w = sym z ∙ (λ i. is_some (e i) && not (bus p).rst) in absurd cc

connected_begins : (s : ScenarioValue) (p : List Row) → BusStage s p → is_connected p ≡ true → Begun s p
connected_begins s p (on_free_bus h) z = not_apart s p h.stands.connection_is z
connected_begins s p (in_arbitration a h) z = not_apart s p h.stands.connection_is z
connected_begins s p (after_arbitration c t h) z = not_apart s p h.stands.connection_is z
connected_begins s p (with_both_ids m c k t0 t e h) z = not_apart s p h.stands.connection_is z
connected_begins s p (awaiting_answer v m c k t0 t1 t2 x h) z = not_apart s p h.here.stands.connection_is z
connected_begins s p (after_withdrawal v m c k t0 t1 t2 t3 e h) z = not_apart s p h.stands.connection_is z
connected_begins s p (after_answer m c k t0 t1 t2 t3 x h) z = not_apart s p h.here.stands.connection_is z
connected_begins s p (after_takeover c k t0 t1 t2 t3 t4 x e f h) z = not_apart s p h.here.stands.connection_is z
connected_begins s p (in_reset h) z =
    let w = sym z ∙ (λ i. is_some (connection p) && not (h.reset i)) ∙ and_false (is_some (connection p)) in
    absurd cc
connected_begins s p (in_connection n e calm h) z = record { n = n; calm = calm; begins = h }

-- ---- any row

-- What stands after a row that leaves one of these stages.
after_stage : (s : ScenarioValue) (p : List Row) (row : Row) → Standing s p → IsLeast (due s p) 8 row → NextRow s p row
    → NextAny s p row
after_stage s p row st m g = go (is_connected (row ∷ p)) refl
  where
    go : (q : Bool) → is_connected (row ∷ p) ≡ q → NextAny s p row
    go false alone =
        record { obeys = g.obeys; standing = standing_next s p row st m g alone; here = apart g.here alone }
    go true stood =
        let b = connected_begins s (row ∷ p) g.here stood in
        let order = g.order in
        let past = st.seen_past data_of in
        let here = first_stage s (row ∷ p) b.n (since_le data_of row p (omega arith)) b.begins in
        let devices : AreOfDevices (row ∷ p) = (m.inside, st.devices) in
        record {
          obeys = g.obeys;
          standing = standing_after s p row st m g.order g.obeys
              (ahead_with_resets s p row st m b.calm (λ d lt x e. stage_ahead s (row ∷ p) b.n devices here d x e));
          here = linked b.n here;
        }

pub link_calm : (s : ScenarioValue) (p : List Row) (n : Connection) → LinkStage s p n → (bus p).rst ≡ false
link_calm s p n (when_selected h) = ap (λ (l : LineSet). l.rst) h.linked.stands.bus_is
link_calm s p n (when_settling bsy atn msg cd io y h) = ap (λ (l : LineSet). l.rst) h.linked.stands.bus_is
link_calm s p n (when_turning atn x msg cd h) = ap (λ (l : LineSet). l.rst) h.linked.stands.bus_is
link_calm s p n (when_offering atn msg cd y h) = ap (λ (l : LineSet). l.rst) h.linked.stands.bus_is
link_calm s p n (when_shaking msg cd io req ack atn x y h) = ap (λ (l : LineSet). l.rst) h.linked.stands.bus_is
link_calm s p n (when_pulsing io req ack atn x y h a) = ap (λ (l : LineSet). l.rst) h.linked.stands.bus_is

from_linked : (s : ScenarioValue) (p : List Row) (row : Row) (n : Connection) → HasShortLatencies s → HasShortRuns s
    → Standing s p → LinkStage s p n → KeepsBooksIn p row → IsLeast (due s p) 8 row → NextAny s p row
from_linked s p row n fits runs st h books m =
    elim (reset_or_calm s p row st calm m) [
      | by_reset e ↦ after_stage s p row st m (subst (λ (w : Row). NextRow s p w) (sym e)
          (raises s p row.time row.dev st calm (subst (λ (w : Row). IsLeast (due s p) 8 w) e m)))
      | by_calm always least ↦ after (from_link s p row n fits runs always st.there h books least)
    ]
  where
    calm : (bus p).rst ≡ false
    calm = link_calm s p n h

    after : AfterLink s p row n → NextAny s p row
    after (goes_on g) =
        let devices : AreOfDevices (row ∷ p) = (m.inside, st.devices) in
        record {
          obeys = g.obeys;
          standing = standing_after s p row st m g.order g.obeys (ahead_with_resets s p row st m
              (link_calm s (row ∷ p) n g.stage) (λ d lt x e. stage_ahead s (row ∷ p) n devices g.stage d x e));
          here = linked n g.stage;
        }
    after (frees g) =
        record {
          obeys = g.obeys;
          standing = standing_after s p row st m g.order g.obeys
              (ahead_with_resets s p row st m (ap (λ (l : LineSet). l.rst) g.here.stands.bus_is) g.ahead);
          here = apart (on_free_bus g.here) (λ i. is_some (g.here.stands.connection_is i) && not (bus (row ∷ p)).rst);
        }

-- The next row, whatever stands.
pub from_any : (s : ScenarioValue) (p : List Row) (row : Row) → HasShortLatencies s → HasShortRuns s → Standing s p
    → AnyStage s p → KeepsBooksIn p row → IsLeast (due s p) 8 row → NextAny s p row
from_any s p row fits runs st (apart h alone) books m = after_stage s p row st m (from_stage s p row fits st h alone m)
from_any s p row fits runs st (linked n h) books m = from_linked s p row n fits runs st h books m

-- ---- all rows

pub record Books (p : List Row) : Type 0 where
  pub bytes : have_odd_bytes p ≡ true
  pub messages : have_whole_messages p ≡ true
  pub commands : have_whole_commands p ≡ true
  pub freeing : free_in_time p ≡ true

books_before : (p : List Row) (row : Row) → Books (row ∷ p) → Books p
books_before p row b = record {
  bytes = (and_parts _ _ b.bytes).0;
  messages = (and_parts _ _ b.messages).0;
  commands = (and_parts _ _ b.commands).0;
  freeing = (and_parts _ _ b.freeing).0;
}

books_at : (p : List Row) (row : Row) → Books (row ∷ p) → KeepsBooksIn p row
books_at p row b now = record {
  byte = implied _ _ (and_parts (in_connections has_odd_byte p) _ b.bytes).1 now;
  messages = implied _ _ (and_parts (in_connections has_whole_messages p) _ b.messages).1 now;
  command = implied _ _ (and_parts (in_connections has_whole_command p) _ b.commands).1 now;
  freeing = implied _ _ (and_parts (in_connections frees_in_time p) _ b.freeing).1 now;
}

pub record Stood (s : ScenarioValue) (p : List Row) : Type 0 where
  pub standing : Standing s p
  pub here : AnyStage s p

pub stood : (s : ScenarioValue) → HasShortLatencies s → HasShortRuns s → (p : List Row) → IsPrompt s p → Books p
    → Stood s p
stood s fits runs [] prompt b = record { standing = standing_first s; here = apart (stage_first s) refl }
stood s fits runs (row ∷ p) prompt b =
    let was = stood s fits runs p prompt.0 (books_before p row b) in
    let g = from_any s p row fits runs was.standing was.here (books_at p row b) (least_is s p row prompt.1) in
    record { standing = g.standing; here = g.here }

-- ---- who drives what

pub sides_are : (s : ScenarioValue) (p : List Row) (n : Connection) → LinkStage s p n → (e : EndLines) × Linked p n e
sides_are s p n (when_selected h) = (_, h.linked)
sides_are s p n (when_settling bsy atn msg cd io y h) = (_, h.linked)
sides_are s p n (when_turning atn x msg cd h) = (_, h.linked)
sides_are s p n (when_offering atn msg cd y h) = (_, h.linked)
sides_are s p n (when_shaking msg cd io req ack atn x y h) = (_, h.linked)
sides_are s p n (when_pulsing io req ack atn x y h a) = (_, h.linked)
