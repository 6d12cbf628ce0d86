-- A prompt trace tells the events that the ends of its connections show.
use Rattle.story_laws.proofs
use proofs.Names.{inl, inr, ℕ, ◌≡◌, ◌⊎◌, ◌≤◌, Bool, true, false, not, ◌&&◌, ◌||◌, ◌==◌, ◌∙◌, List, [], ◌∷◌, ◌++◌}
use proofs.Names.{length, length-append, Option, Some, None, refl, sym, ap, subst, arith, nat_tests, is_some, nat_lt}
use proofs.Names.{wrong, wrong', AbortKind, ProcId, LineSet, changes_phase, receiver_in, Row, Connection, ScenarioValue}
use proofs.Names.{Obeys, Process, process_of, RowReading, row_reading, Item, process, abort, Link, plain, abortive}
use proofs.Names.{follows_by, bytes_of_messages, phase_of, follows_in, is_naming, Cause, Phase, IsPrompt, IsPlain}
use proofs.Names.{RunState, bus_of, item_of, run_state, serving_of, obeys_fits, units_are, is_message, AreUnits}
use proofs.Names.{reading_is, AreGiven, Knows, IsOver, Speaks, none_some, out_phase, in_phase, unpulsed, by_bool}
use proofs.Names.{ConnectionRow, connection_row, RowFacts, stays, ends_here, Stood, NextStood, link_phase, is_marked}
use proofs.Names.{frees_bus, LastAsked, LastIn, IsServed, of_process, of_abort, IsLeaving, TellsAsLeft, FailsAsLeft}
use proofs.{Names.{LastBy, known, said, refused, Named, TellFacts}, Items.{Facts.{items_start}, Fresh.{items_found}}}
use proofs.{Items.{Next.{items_next}, Served.{served_start, served_next}}, Last.Facts.{last_start, last_next}}
use proofs.{Last.Turns.{ends_closing}, Named.{Bytes.{names_first}, Facts.{named_start, named_next}}}
use proofs.{Offers.Facts.{offers_start, offers_next}, Tells.{Ends.{none_heard}, Rows.{is_heard}}}
use proofs.Undone.{Facts.{undo_start, undo_next, in_of}, Rows.{kept_answers}}

-- ---- MESSAGE IN is left with ATN false after all of its bytes

none_left : (count total : ℕ) (q : Bool) → ((count == 0 || not q) && nat_lt count total) ≡ false → q ≡ false
    → count ≤ total → count ≡ total
none_left count total true e f le = wrong f
none_left count total false e f le = go (count == 0) e
  where
    go : (q : Bool) → ((q || true) && nat_lt count total) ≡ false → count ≡ total
    go true z = grind (arith, nat_tests)
    go false z = grind (arith, nat_tests)

pub front_length : (bytes half : List ℕ) (count : ℕ) → AreGiven bytes half count → count ≤ length bytes
front_length bytes half count g =
    let total : length bytes ≡ length (g.before ++ g.rest) = ap (λ (x : List ℕ). length x) g.bytes_are in
    let two = length-append g.before g.rest in
    let at = g.count_is in
    omega arith

pub all_given : (s : ScenarioValue) (k : RunState) (n : Connection)
    → phase_of (bus_of k) ≡ Phase.MessageIn → (bus_of k).atn ≡ false → IsOver s k n
    → AreGiven (bytes_of_messages k.exchange.plan.messages) k.story.bus_state.dialogue.half k.handshakes.requests
    → k.handshakes.requests ≡ length (bytes_of_messages k.exchange.plan.messages)
all_given s k n e off over g = none_left k.handshakes.requests (length (bytes_of_messages k.exchange.plan.messages))
    (bus_of k).atn (sym (ap (λ (q : Bool). follows_by (serving_of s k n.target) q (bus_of k) k.handshakes)
    (unpulsed k.exchange.begun (bus_of k) _ (ap is_message e))
    ∙ ap (follows_in (serving_of s k n.target) k.handshakes (bus_of k).atn) e) ∙ over.follows) off
    (front_length (bytes_of_messages k.exchange.plan.messages) k.story.bus_state.dialogue.half k.handshakes.requests g)

-- ---- as a phase is left

record Leaves (s : ScenarioValue) (p : List Row) (row : Row) (n : Connection) : Type 0 where
  units : AreUnits s
  was : Stood s p
  facts : TellFacts s p
  leaving : IsLeaving s p row n
  over : IsOver s (run_state s p) n
  known : (bus_of (run_state s p)).msg ≡ true → (bus_of (run_state s p)).cd ≡ true

plain_of : (s : ScenarioValue) (p : List Row) (row : Row) (n : Connection) → Leaves s p row n
    → IsPlain s p (run_state s p)
plain_of s p row n h = h.was.plain

knows_of : (s : ScenarioValue) (p : List Row) (row : Row) (n : Connection) → Leaves s p row n
    → Knows s (run_state s p) n
knows_of s p row n h =
    let pl = plain_of s p row n h in
    h.was.books.knows n (pl.connection ∙ h.leaving.stands) (ap (λ (l : LineSet). l.rst) pl.bus ∙ h.leaving.calm)

given_of : (s : ScenarioValue) (p : List Row) (row : Row) (n : Connection)
    → Leaves s p row n → phase_of (bus_of (run_state s p)) ≡ Phase.MessageIn
    → AreGiven (bytes_of_messages (run_state s p).exchange.plan.messages) (run_state s p).story.bus_state.dialogue.half
    (run_state s p).handshakes.requests
given_of s p row n h e =
    let pl = plain_of s p row n h in
    (h.was.books.gives n (pl.connection ∙ h.leaving.stands)
    (ap (λ (l : LineSet). l.rst) pl.bus ∙ h.leaving.calm)).in_message_in h.leaving.begun
    (in_of (bus_of (run_state s p)) e h.known)

served_some : (s : ScenarioValue) (k : RunState) (n : Connection) → IsServed s k n → k.served ≡ None → ⊥
served_some s k n (of_process id p e f) z = none_some (process id) (sym z ∙ e)
served_some s k n (of_abort m a e line host target re alone) z = none_some (abort m) (sym z ∙ e)

-- Before a name was heard the names are said, or said again.
naming_left : (s : ScenarioValue) (p : List Row) (row : Row) (n : Connection)
    → Leaves s p row n → item_of (run_state s p).story.link ≡ None
    → ((phase_of (bus_of (run_state s p)) ≡ Phase.MessageOut) × ((run_state s p).exchange.plan.cause ≡ Cause.InMessage)
    × (is_naming (run_state s p).exchange.plan.messages.first ≡ true))
    ⊎ ((phase_of (bus_of (run_state s p)) ≡ Phase.MessageIn) × ((bus_of (run_state s p)).atn ≡ true))
naming_left s p row n h none = by_item w.item_is
  where
    k : RunState
    k = run_state s p

    w : Knows s k n
    w = knows_of s p row n h

    Told : Type 0
    Told = ((phase_of (bus_of k) ≡ Phase.MessageOut) × (k.exchange.plan.cause ≡ Cause.InMessage)
        × (is_naming k.exchange.plan.messages.first ≡ true))
        ⊎ ((phase_of (bus_of k) ≡ Phase.MessageIn) × ((bus_of k).atn ≡ true))

    link : (l : Link) → k.story.link ≡ Some l → l.item ≡ None
    link l e = ap item_of (sym e) ∙ none

    unknown : {A : Type 0} (l : Link) → k.story.link ≡ Some l → is_some l.item ≡ true → A
    unknown l e f = wrong' (sym (ap (λ (x : Option Item). is_some x) (link l e)) ∙ f)

    by_name : Named s k n → Told
    by_name (known l e f g) = unknown l e f
    by_name (refused q l naming out cause names) =
        inl (out_phase (bus_of k) out, cause, names_first q l k.exchange.plan.messages 0 names)
    by_name (said q l naming into names whole) =
        by_bool (bus_of k).atn
        (λ e. inr (here, e))
        (λ e. unknown l naming.link_is (whole (all_given s k n here e h.over (given_of s p row n h here))))
      where
        here : phase_of (bus_of k) ≡ Phase.MessageIn
        here = in_phase (bus_of k) into

    by_item : (w.link.item ≡ k.served) ⊎ ((n.reselected ≡ true) × (w.link.item ≡ None)) → Told
    by_item (inl same) =
        absurd (served_some s k n (h.facts.served n h.leaving.stands h.leaving.calm) (sym same ∙ link w.link w.link_is))
    by_item (inr re) = by_name (h.facts.named n h.leaving.stands h.leaving.calm re.0)

-- The last message tells what the target means.
last_left : (s : ScenarioValue) (p : List Row) (row : Row) (n : Connection)
    → Leaves s p row n → (l : Link) → (run_state s p).story.link ≡ Some l
    → LastIn (run_state s p).exchange.plan (bus_of (run_state s p)).atn l.last (phase_of (bus_of (run_state s p)))
last_left s p row n h l el = go (h.facts.served n h.leaving.stands h.leaving.calm)
  where
    k : RunState
    k = run_state s p

    pl : IsPlain s p k
    pl = plain_of s p row n h

    speaks : Speaks s k n
    speaks =
        h.was.books.speaks n (pl.connection ∙ h.leaving.stands) (ap (λ (x : LineSet). x.rst) pl.bus ∙ h.leaving.calm)

    of_one : (id : ProcId) (q : Process) → k.served ≡ Some (process id)
        → process_of s id ≡ Some q → (phase : Phase) → phase_of (bus_of k) ≡ phase
        → LastBy l k.exchange.plan k.handshakes.requests k.story.bus_state.dialogue.is_last phase
        → LastIn k.exchange.plan (bus_of k).atn l.last phase
    of_one id q served of Phase.MessageOut e w =
        let heard = is_heard s k n h.units speaks h.leaving.begun h.known h.over e in
        asked k.exchange.plan.cause (w.0 heard.last)
        (none_heard s k n id q speaks served of h.leaving.begun heard.out heard.last heard.named)
      where
        asked : (cause : Cause) → l.last ≡ plain → k.exchange.plan.said.aborts ≡ None
            → LastAsked k.exchange.plan l.last cause
        asked Cause.Selected last none = λ z. wrong' (sym (ap (λ (x : Option AbortKind). is_some x) none) ∙ z)
        asked Cause.InMessage last none = last
        asked Cause.InStatus last none = last
        asked Cause.InData last none = tt
    of_one id q served of Phase.MessageIn e w = λ off free. ends_closing l k.exchange.plan.messages k.exchange.plan.next
        k.handshakes.requests w (ap frees_bus free) (all_given s k n e off h.over (given_of s p row n h e))
    of_one id q served of _ e w = tt

    go : IsServed s k n → LastIn k.exchange.plan (bus_of k).atn l.last (phase_of (bus_of k))
    go (of_process id q served of) = of_one id q served of (phase_of (bus_of k)) refl
        (((h.facts.last n h.leaving.stands h.leaving.calm).0 l id el served).begun h.leaving.begun)
    go (of_abort m a served line host target re alone) =
        let at = alone h.leaving.begun in
        let heard = is_heard s k n h.units speaks h.leaving.begun h.known h.over at.0 in
        let last : l.last ≡ abortive = (h.facts.last n h.leaving.stands h.leaving.calm).1
        l m el served h.leaving.begun heard.last in
        subst (LastIn k.exchange.plan (bus_of k).atn l.last) (sym at.0)
        (subst (LastAsked k.exchange.plan l.last) (sym at.1) (λ z. last))

-- All of it, but for the code of a failure.
pub left_tells : (s : ScenarioValue) (p : List Row) (row : Row) → Obeys s → IsPrompt s (row ∷ p) → Stood s p
    → TellFacts s p → FailsAsLeft s p row → TellsAsLeft s p row
left_tells s p row o prompt was facts fails n w = record {
  served = facts.served n w.stands w.calm;
  failure = λ id e. fails n id w e;
  naming = naming_left s p row n h;
  last = last_left s p row n h;
}
  where
    k : RunState
    k = run_state s p

    r : ConnectionRow s p row n
    r = connection_row s p row n o prompt was w.stands w.calm w.calm_after

    over : RowFacts s p row n → (changes_phase (row_reading k.story.bus_state row).change ≡ true)
        ⊎ ((row_reading k.story.bus_state row).next ≡ None)
        → IsOver s k n
    over (ends_here g) leaves = g.over
    over (stays g) (inl e) = g.over (ap changes_phase (sym g.row_is.change_is) ∙ e) (sym was.plain.begun ∙ w.begun)
    over (stays g) (inr e) = none_some n (sym e ∙ ap (λ (d : RowReading). d.next)
        (reading_is k row n g.change (is_some (receiver_in n g.change)) g.row_is refl))

    h : Leaves s p row n
    h = record {
      units = units_are s (obeys_fits s o);
      was = was;
      facts = facts;
      leaving = w;
      over = over r.facts w.leaves;
      known = λ m. ap (λ (l : LineSet). l.cd) was.plain.bus
          ∙ (link_phase s p n r.stage (ap (λ (l : LineSet). l.msg) (sym was.plain.bus) ∙ m)).0;
    }

-- ---- all rows

pub tell_start : (s : ScenarioValue) → TellFacts s []
tell_start s = record {
  items = items_start s;
  offers = offers_start s;
  named = named_start s;
  undo = undo_start is_marked s;
  served = served_start s;
  last = last_start s;
}

pub tell_next : (s : ScenarioValue) (p : List Row) (row : Row) → Obeys s → IsPrompt s (row ∷ p) → Stood s p
    → NextStood s p row → TellFacts s p → TellFacts s (row ∷ p)
tell_next s p row o prompt was next h =
    let served = served_next s p row o prompt was next h.served in
    record {
      items = items_next s p row o prompt was next h.items;
      offers = offers_next s p row o prompt was next h.offers;
      named = named_next s p row o prompt was next h.offers (λ n con after re. items_found s p n h.items) h.named;
      undo = undo_next is_marked kept_answers s p row o prompt was next h.undo;
      served = served;
      last = last_next s p row o prompt was next h.served served h.last;
    }
