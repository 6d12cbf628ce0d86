-- As a phase is left the code of the failure of the process is as its target knows it.
use Rattle.trace_laws.proofs
use proofs.Names.{inl, inr, ℕ, ◌≡◌, ◌⊎◌, Bool, true, false, ◌∙◌, List, ◌∷◌, length, Some, None, refl, sym, ap, subst}
use proofs.Names.{arith, is_some, ProcId, LineSet, changes_phase, receiver_in, Row, Connection}
use proofs.Names.{INITIATOR_DETECTED_ERROR, ScenarioValue, Obeys, RowReading, row_reading, CarriedBytes, process, Link}
use proofs.Names.{bytes_of_messages, phase_of, Cause, Messages, Next, Phase, Plan, IsPrompt, IsPlain, RunState, bus_of}
use proofs.Names.{carried_here, item_of, run_state, reading_is, Knows, IsOver, none_some, ConnectionRow, connection_row}
use proofs.Names.{RowFacts, stays, ends_here, Stood, link_phase, is_marked, code_if, FailsAsked, FailsBefore, FailsIn}
use proofs.Names.{IsLeaving, FailsAsLeft, all_given, in_of, IsClear, ClearIn, clear, GivesFailure, SaysFailure, FailsBy}
use proofs.Names.{FailFacts, SentAsLeft, restores}

none_given : {A : Type 0} (count : ℕ) → count ≡ 0 → count ≡ 1 → A
none_given count e f = absurd (apart count e f)
  where
    apart : (x : ℕ) → x ≡ 0 → x ≡ 1 → ⊥
    apart x a b = grind (arith)

-- ---- by the phase

clear_given : (l : Link) (c : CarriedBytes) (m : Messages) (count : ℕ) → count ≡ length (bytes_of_messages m)
    → ClearIn l c m count → IsClear c
clear_given l c m count e (clear h u) = h
clear_given l c m count e (restores f (inl z)) =
    none_given count z (e ∙ ap (λ (x : Messages). length (bytes_of_messages x)) f)
clear_given l c m count e (restores f (inr h)) = h

before_as : (l : Link) (c : CarriedBytes) (a : Plan) (count : ℕ) (next : Next)
    → count ≡ length (bytes_of_messages a.messages) → GivesFailure l c a count next → FailsBefore c next
before_as l c a count Next.Command e h = tt
before_as l c a count Next.GoOn e h = (clear_given l c a.messages count e h).failure
before_as l c a count Next.Status e h = h
before_as l c a count Next.FreeBus e h = tt

asked_as : (l : Link) (c : CarriedBytes) (a : Plan) (words : List ℕ) (cause : Cause) → SaysFailure l c a words cause
    → FailsAsked c cause
asked_as l c a words Cause.InData h = h
asked_as l c a words _ h = tt

pub fails_left :
    (l : Link) (c : CarriedBytes) (a : Plan) (words : List ℕ) (count : ℕ) (attention : Bool) (phase : Phase)
    → (phase ≡ Phase.DataIn → c.failure ≡ code_if attention INITIATOR_DETECTED_ERROR)
    → (phase ≡ Phase.MessageIn → attention ≡ false → count ≡ length (bytes_of_messages a.messages))
    → FailsBy l c a words count phase → FailsIn a attention c phase
fails_left l c a words count attention Phase.MessageOut code given h = asked_as l c a words a.cause h
fails_left l c a words count attention Phase.MessageIn code given h =
    λ off. before_as l c a count a.next (given refl off) h
fails_left l c a words count attention Phase.Command code given h = h
fails_left l c a words count attention Phase.DataOut code given h = h.1
fails_left l c a words count attention Phase.DataIn code given h =
    λ off. code refl ∙ ap (λ (q : Bool). code_if q INITIATOR_DETECTED_ERROR) off
fails_left l c a words count attention Phase.Status code given h = tt

pub freed_as : (l : Link) (c : CarriedBytes) (a : Plan) (count : ℕ) → count ≡ length (bytes_of_messages a.messages)
    → GivesFailure l c a count Next.FreeBus → (is_marked c ≡ true) ⊎ IsClear c
freed_as l c a count e (inl h) = inl h
freed_as l c a count e (inr h) = inr (clear_given l c a.messages count e h)

-- ---- of a prompt trace

plain_of : (s : ScenarioValue) (p : List Row) → Stood s p → IsPlain s p (run_state s p)
plain_of s p was = was.plain

knows_of : (s : ScenarioValue) (p : List Row) (row : Row) (n : Connection) → Stood s p → IsLeaving s p row n
    → Knows s (run_state s p) n
knows_of s p row n was w =
    let pl = plain_of s p was in
    was.books.knows n (pl.connection ∙ w.stands) (ap (λ (x : LineSet). x.rst) pl.bus ∙ w.calm)

-- MESSAGE IN is left with ATN false after all of its bytes.
given_left : (s : ScenarioValue) (p : List Row) (row : Row) (n : Connection)
    → Obeys s → IsPrompt s (row ∷ p) → Stood s p → IsLeaving s p row n
    → phase_of (bus_of (run_state s p)) ≡ Phase.MessageIn → (bus_of (run_state s p)).atn ≡ false
    → (run_state s p).handshakes.requests ≡ length (bytes_of_messages (run_state s p).exchange.plan.messages)
given_left s p row n o prompt was w e off = all_given s k n e off (over r.facts w.leaves)
    ((was.books.gives n (pl.connection ∙ w.stands) (ap (λ (x : LineSet). x.rst) pl.bus ∙ w.calm)).in_message_in w.begun
    (in_of (bus_of k) e lines))
  where
    k : RunState
    k = run_state s p

    pl : IsPlain s p k
    pl = plain_of s p was

    r : ConnectionRow s p row n
    r = connection_row s p row n o prompt was w.stands w.calm w.calm_after

    over : RowFacts s p row n → (changes_phase (row_reading k.story.bus_state row).change ≡ true)
        ⊎ ((row_reading k.story.bus_state row).next ≡ None)
        → IsOver s k n
    over (ends_here g) leaves = g.over
    over (stays g) (inl z) = g.over (ap changes_phase (sym g.row_is.change_is) ∙ z) (sym pl.begun ∙ w.begun)
    over (stays g) (inr z) = none_some n (sym z ∙ ap (λ (d : RowReading). d.next)
        (reading_is k row n g.change (is_some (receiver_in n g.change)) g.row_is refl))

    lines : (bus_of k).msg ≡ true → (bus_of k).cd ≡ true
    lines z =
        ap (λ (x : LineSet). x.cd) pl.bus ∙ (link_phase s p n r.stage (ap (λ (x : LineSet). x.msg) (sym pl.bus) ∙ z)).0

pub fails_as_left : (s : ScenarioValue) (p : List Row) (row : Row) → Obeys s → IsPrompt s (row ∷ p) → Stood s p
    → SentAsLeft s p row → FailFacts s p → FailsAsLeft s p row
fails_as_left s p row o prompt was sent h n id w item = fails_left knows.link (carried_here k id) k.exchange.plan
    k.exchange.speech.words k.handshakes.requests (bus_of k).atn (phase_of (bus_of k)) (sent n id w served)
    (given_left s p row n o prompt was w) ((h n w.stands w.calm knows.link id knows.link_is served).begun w.begun)
  where
    k : RunState
    k = run_state s p

    knows : Knows s k n
    knows = knows_of s p row n was w

    named : knows.link.item ≡ Some (process id)
    named = ap item_of (sym knows.link_is) ∙ item

    served : k.served ≡ Some (process id)
    served = elim knows.item_is [ inl e ↦ sym e ∙ named | inr e ↦ none_some (process id) (sym e.1 ∙ named) ]

-- As its target frees the bus the process has an answer, or nothing has struck it.
pub freed_as_left : (s : ScenarioValue) (p : List Row) (row : Row) (n : Connection) (id : ProcId)
    → Obeys s → IsPrompt s (row ∷ p) → Stood s p → FailFacts s p → IsLeaving s p row n
    → (run_state s p).served ≡ Some (process id) → phase_of (bus_of (run_state s p)) ≡ Phase.MessageIn
    → (bus_of (run_state s p)).atn ≡ false → (run_state s p).exchange.plan.next ≡ Next.FreeBus
    → (is_marked (carried_here (run_state s p) id) ≡ true) ⊎ IsClear (carried_here (run_state s p) id)
freed_as_left s p row n id o prompt was h w served here off free = freed_as knows.link
    (carried_here k id) k.exchange.plan k.handshakes.requests (given_left s p row n o prompt was w here off)
    (subst (GivesFailure knows.link (carried_here k id) k.exchange.plan k.handshakes.requests) free
    (subst (FailsBy knows.link (carried_here k id) k.exchange.plan k.exchange.speech.words k.handshakes.requests) here
    ((h n w.stands w.calm knows.link id knows.link_is served).begun w.begun)))
  where
    k : RunState
    k = run_state s p

    knows : Knows s k n
    knows = knows_of s p row n was w
