-- As a connection ends in MESSAGE OUT, its last message tells nothing; and in MESSAGE IN COMMAND COMPLETE was taken,
-- where it was said (6.1.1, 6.6.5).
use Rattle.trace_laws.proofs
use proofs.Names.{ℕ, ◌≡◌, Bool, true, false, not, ◌&&◌, ◌==◌, ◌∙◌, List, ◌∷◌, length, Some, None, refl, sym, ap, subst}
use proofs.Names.{if◌then◌else◌, ProcId, LineSet, is_message_in, connection, bus, Row, Change, Connection}
use proofs.Names.{ScenarioValue, Obeys, has_ended, RowReading, row_reading, process, Link, plain, bytes_of_messages}
use proofs.Names.{Serving, phase_of, phase_entry, phase_leaving, after_messages, leaving_by, Leaving, Messages, Phase}
use proofs.Names.{IsPrompt, IsPlain, RunState, array_of, bus_of, run_state, serving_of, obeys_fits, units_are}
use proofs.Names.{reading_is, Ends, change_plain, least_is, some_none, ConnectionRow, connection_row, RowFacts, Stops}
use proofs.Names.{stays, ends_here, Stood, link_phase, awaits, all_given, in_of, LastFacts, LastTalk, LastBy}
use proofs.Names.{IsCompleting, CloseBooks, CloseFacts}
use Rattle.story_laws.proofs.Tells.Rows.{is_heard}

-- What the lines say of a row with which a connection ends.
pub record EndsHere (s : ScenarioValue) (p : List Row) (row : Row) (n : Connection) : Type 0 where
  pub con : connection p ≡ Some n
  pub off : (bus p).rst ≡ false
  pub plain_is : IsPlain s p (run_state s p)
  pub stops : Stops s p row n
  pub known : (bus_of (run_state s p)).msg ≡ true → (bus_of (run_state s p)).cd ≡ true

pub ends_row : (s : ScenarioValue) (p : List Row) (row : Row) (n : Connection)
    → Obeys s → IsPrompt s (row ∷ p) → Stood s p → Ends s (run_state s p) row n
    → (row_reading (run_state s p).story.bus_state row).change.after.rst ≡ false → EndsHere s p row n
ends_row s p row n o prompt was g calm = record {
  con = con;
  off = off;
  plain_is = was.plain;
  stops = freed r.facts;
  known = λ m. ap (λ (l : LineSet). l.cd) was.plain.bus
      ∙ (link_phase s p n r.stage (ap (λ (l : LineSet). l.msg) (sym was.plain.bus) ∙ m)).0;
}
  where
    k : RunState
    k = run_state s p

    con : connection p ≡ Some n
    con = sym was.plain.connection ∙ g.connection_is

    off : (bus p).rst ≡ false
    off = sym (ap (λ (x : LineSet). x.rst) was.plain.bus) ∙ g.calm

    off_after : (bus (row ∷ p)).rst ≡ false
    off_after = sym (ap (λ (x : Change). x.after.rst)
        (change_plain s row p was.standing.devices (least_is s p row prompt.1).inside))
        ∙ calm

    r : ConnectionRow s p row n
    r = connection_row s p row n o prompt was con off off_after

    freed : RowFacts s p row n → Stops s p row n
    freed (ends_here f) = f
    freed (stays f) =
        let some : (row_reading k.story.bus_state row).next ≡ Some n = ap
        (λ (x : RowReading). x.next) (reading_is k row n f.change _ f.row_is refl) in
        some_none n (sym some ∙ g.next_is)

pub lost_in : (s : ScenarioValue) (p : List Row) (row : Row) (n : Connection) (l : Link) (id : ProcId)
    → Obeys s → IsPrompt s (row ∷ p) → Stood s p → LastFacts s p → Ends s (run_state s p) row n
    → (row_reading (run_state s p).story.bus_state row).change.after.rst ≡ false → (run_state s p).story.link ≡ Some l
    → (run_state s p).served ≡ Some (process id) → phase_of (bus_of (run_state s p)) ≡ Phase.MessageOut → l.last ≡ plain
lost_in s p row n l id o prompt was facts g calm link e out = by.0 heard
  where
    k : RunState
    k = run_state s p

    h : EndsHere s p row n
    h = ends_row s p row n o prompt was g calm

    begun : k.exchange.begun ≡ true
    begun = h.plain_is.begun ∙ h.stops.begun_is

    heard : k.story.bus_state.dialogue.is_last ≡ true
    heard = (is_heard s k n (units_are s (obeys_fits s o))
        (was.books.speaks n g.connection_is g.calm) begun h.known h.stops.over out).last

    talk : LastTalk k l
    talk = (facts n h.con h.off).0 l id link e

    by : LastBy l k.exchange.plan k.handshakes.requests k.story.bus_state.dialogue.is_last Phase.MessageOut
    by = subst (λ (x : Phase). LastBy l k.exchange.plan k.handshakes.requests k.story.bus_state.dialogue.is_last x) out
        (talk.begun begun)

-- Outside the message phases the last message tells nothing.
pub lost_by : (s : ScenarioValue) (p : List Row) (n : Connection) (l : Link) (id : ProcId) → Stood s p
    → LastFacts s p → {row : Row} → Ends s (run_state s p) row n → (run_state s p).story.link ≡ Some l
    → (run_state s p).served ≡ Some (process id) → (phase_of (bus_of (run_state s p)) ≡ Phase.MessageIn → ⊥)
    → (phase_of (bus_of (run_state s p)) ≡ Phase.MessageOut → l.last ≡ plain) → (run_state s p).exchange.begun ≡ true
    → l.last ≡ plain
lost_by s p n l id was facts g link e in_none out b = go (phase_of (bus_of k)) refl (talk.begun b)
  where
    k : RunState
    k = run_state s p

    talk : LastTalk k l
    talk = (facts n (sym was.plain.connection ∙ g.connection_is)
        (sym (ap (λ (x : LineSet). x.rst) was.plain.bus) ∙ g.calm)).0 l id link e

    go : (x : Phase) → phase_of (bus_of k) ≡ x
        → LastBy l k.exchange.plan k.handshakes.requests k.story.bus_state.dialogue.is_last x → l.last ≡ plain
    go Phase.MessageIn z h = absurd (in_none z)
    go Phase.MessageOut z h = out z
    go _ z h = h

unattended : (q : Bool) (l : Leaving) → (if q then phase_entry Phase.MessageOut else l).to ≡ None → q ≡ false
unattended true l e = some_none Phase.MessageOut e
unattended false l e = refl

not_asked : (a b : Bool) → a ≡ false → (a && not b) ≡ false
not_asked a b e = λ i. e i && not b

-- In MESSAGE IN with ATN false.
pub ends_low : (s : ScenarioValue) (p : List Row) (row : Row) (n : Connection)
    → Obeys s → IsPrompt s (row ∷ p) → Stood s p → Ends s (run_state s p) row n
    → (row_reading (run_state s p).story.bus_state row).change.after.rst ≡ false
    → phase_of (bus_of (run_state s p)) ≡ Phase.MessageIn → (bus_of (run_state s p)).atn ≡ false
ends_low s p row n o prompt was g calm into =
    let k : RunState = run_state s p in
    let h = ends_row s p row n o prompt was g calm in
    let v : Serving = serving_of s k n.target in
    unattended (bus_of k).atn (after_messages v k.exchange.plan.next)
    (ap (λ (y : Phase). (phase_leaving v (bus_of k).atn y).to) (sym into)
    ∙ ap (λ (q : Bool). (leaving_by v q (bus_of k)).to) (sym (h.plain_is.begun ∙ h.stops.begun_is)) ∙ h.stops.whereto)

pub taken_in : (s : ScenarioValue) (p : List Row) (row : Row) (n : Connection) (id : ProcId)
    → Obeys s → IsPrompt s (row ∷ p) → Stood s p → CloseFacts s p → Ends s (run_state s p) row n
    → (row_reading (run_state s p).story.bus_state row).change.after.rst ≡ false
    → (run_state s p).served ≡ Some (process id) → phase_of (bus_of (run_state s p)) ≡ Phase.MessageIn
    → IsCompleting (run_state s p) → has_ended (array_of s (run_state s p)) id ≡ true
taken_in s p row n id o prompt was closes g calm e into m =
    books.ended id e lines m (books.counts.given lines asked none) low
  where
    k : RunState
    k = run_state s p

    h : EndsHere s p row n
    h = ends_row s p row n o prompt was g calm

    books : CloseBooks s k
    books = closes n h.con h.off

    begun : k.exchange.begun ≡ true
    begun = h.plain_is.begun ∙ h.stops.begun_is

    lines : is_message_in (bus_of k) ≡ true
    lines = in_of (bus_of k) into h.known

    low : (bus_of k).atn ≡ false
    low = ends_low s p row n o prompt was g calm into

    all : k.handshakes.requests ≡ length (bytes_of_messages k.exchange.plan.messages)
    all = all_given s k n into low h.stops.over ((was.books.gives n g.connection_is g.calm).in_message_in begun lines)

    asked : (k.handshakes.requests == 0) ≡ false
    asked = ap (λ (x : ℕ). x == 0) (all ∙ ap (λ (y : Messages). length (bytes_of_messages y)) m)

    none : awaits (bus_of k) ≡ false
    none = not_asked (bus_of k).req (bus_of k).ack (ap (λ (x : LineSet). x.req) h.plain_is.bus ∙ h.stops.low)
