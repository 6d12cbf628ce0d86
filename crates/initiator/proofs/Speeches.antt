-- What the initiator of a connection says goes on by what it hears.
use Rattle.std.proofs.Common.{ℕ, ◌≡◌, ◌∙◌, refl, sym, Bool, true, false, List, [], ◌∷◌, Option, Some, None}
use Rattle.std.specs.Prelude.{if◌then◌else◌, ◌==◌}
use Rattle.std.proofs.lemmas.Bool.{eqb-true}
use Rattle.scenario.specs.declared.value.HostDef.{HostDef}
use Rattle.story_model.specs.TraceHistory.{aim_of}
use Rattle.due_model.specs.Defs
use Rattle.bus_trace.specs.declared.Row.{Row}
use Rattle.bus_trace.specs.declared.connection.Connection.{Connection}
use Rattle.bus_trace.specs.Terms.{connection}
use Rattle.bus_trace.proofs.Connections.{connection_stays}
use Rattle.scenario.specs.Value.{ScenarioValue}
use Rattle.story_model.specs.BusState.{RowReading, row_reading}
use Rattle.due_model.specs.dialogue_model.specs.Exchange.{Speech, no_speech, speech_of}
use Rattle.due_model.specs.dialogue_model.specs.Speaking.{speech_after}
use Rattle.due_model.specs.dialogue_model.specs.Hearing.{hearing}
use Rattle.due_model.specs.Defs.{host_of}
use Rattle.due_model.specs.RunState.{RunState}
use Rattle.due_model.specs.RunSteps.{run_state, exchange_after, leaving_of, may_negotiate}
use Rattle.due_model.specs.Sights.{hearing_of}
use Rattle.due_model.specs.Plain.{IsPlain}
use Rattle.initiator.specs.Speeches.{first_words, speech_at, speech_by, IsSpeechOf, IsOpeningOf}

-- A connection stands before the row and after it.
pub speech_goes_on : (s : ScenarioValue) (rows : List Row) (row : Row) (m n : Connection)
    → IsPlain s rows (run_state s rows) → IsPlain s (row ∷ rows) (run_state s (row ∷ rows))
    → hearing_of (run_state s rows) row (row_reading (run_state s rows).story.bus_state row) ≡ hearing rows row
    → connection rows ≡ Some m → connection (row ∷ rows) ≡ Some n
    → speech_at s (row ∷ rows) ≡ speech_after (host_of s n.initiator) (hearing rows row) (speech_at s rows)
speech_goes_on s rows row m n p q w x y =
    let k : RunState = run_state s rows in
    let d : RowReading = row_reading k.story.bus_state row in
    (λ i. (exchange_after s k row d ((p.connection ∙ x) i)
    ((q.connection ∙ y) i) (leaving_of s k ((p.connection ∙ x) i))).speech)
    ∙ (λ i. speech_after (host_of s n.initiator) (w i) k.exchange.speech)

-- The row begins the connection.
pub speech_begins : (s : ScenarioValue) (rows : List Row) (row : Row) (n : Connection)
    → IsPlain s rows (run_state s rows) → IsPlain s (row ∷ rows) (run_state s (row ∷ rows)) → connection rows ≡ None
    → connection (row ∷ rows) ≡ Some n → speech_at s (row ∷ rows) ≡ speech_of no_speech (first_words s rows n)
speech_begins s rows row n p q x y =
    let k : RunState = run_state s rows in
    let d : RowReading = row_reading k.story.bus_state row in
    λ i. (exchange_after s k row d ((p.connection ∙ x) i) ((q.connection ∙ y) i)
    (leaving_of s k ((p.connection ∙ x) i))).speech

pub speeches_go_on : (s : ScenarioValue) (rows : List Row) (row : Row) (h : HostDef) (opening : List ℕ) (p : Speech)
    → IsPlain s rows (run_state s rows) → IsPlain s (row ∷ rows) (run_state s (row ∷ rows))
    → hearing_of (run_state s rows) row (row_reading (run_state s rows).story.bus_state row) ≡ hearing rows row
    → host_of s h.dev ≡ Some h → IsOpeningOf s rows row h.dev opening → IsSpeechOf s rows h.dev p
    → (before after : Option Connection) → before ≡ connection rows → after ≡ connection (row ∷ rows)
    → IsSpeechOf s (row ∷ rows) h.dev (speech_by h opening (hearing rows row) before after p)
speeches_go_on s rows row h opening p plain next heard host first old before None b a n own =
    (let bad : None ≡ Some n = a ∙ own.stands in cc)
speeches_go_on s rows row h opening p plain next heard host first old None (Some k) b a n own =
    let same : k ≡ n = (let e : Some k ≡ Some n = a ∙ own.stands in cc) in
    let mine : (k.initiator == h.dev) ≡ true = (λ i. (same i).initiator == h.dev) ∙ own.own in
    (λ i. if mine i then speech_of no_speech (if k.reselected then [] else opening) else p)
    ∙ said mine k.reselected refl
    ∙ sym (speech_begins s rows row k plain next (sym b) (sym a))
  where
    said : (k.initiator == h.dev) ≡ true → (r : Bool) → k.reselected ≡ r
        → speech_of no_speech (if k.reselected then [] else opening) ≡ speech_of no_speech (first_words s rows k)
    said mine true e = (λ i. speech_of no_speech (if e i then [] else opening))
        ∙ (λ i. speech_of no_speech (if sym e i then [] else Defs.opening s k.initiator
        (may_negotiate (run_state s rows) k (aim_of (run_state s rows).story.aims k.initiator))
        (aim_of (run_state s rows).story.aims k.initiator)))
    said mine false e =
        (λ i. speech_of no_speech (if e i then [] else opening))
        ∙ (λ i. speech_of no_speech (first k (sym b) (sym a) mine e i))
speeches_go_on s rows row h opening p plain next heard host first old (Some m) (Some k) b a n own =
    let same : k ≡ n = (let e : Some k ≡ Some n = a ∙ own.stands in cc) in
    let mine : (k.initiator == h.dev) ≡ true = (λ i. (same i).initiator == h.dev) ∙ own.own in
    let stood : m ≡ k = connection_stays rows row m k (sym b) (sym a) in
    let ours : (m.initiator == h.dev) ≡ true = (λ i. (stood i).initiator == h.dev) ∙ mine in
    let known : p ≡ speech_at s rows = old m (record { stands = sym b; own = ours }) in
    let line : host_of s k.initiator ≡ Some h = (λ i. host_of s (eqb-true k.initiator h.dev mine i)) ∙ host in
    (λ i. if mine i then speech_after (Some h) (hearing rows row) p else p)
    ∙ (λ i. speech_after (sym line i) (hearing rows row) (known i))
    ∙ sym (speech_goes_on s rows row m k plain next heard (sym b) (sym a))
