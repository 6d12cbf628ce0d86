-- A connection ends: the events that the rows show by its last message are those that its target means.
use Rattle.story_laws.proofs
use proofs.Names.{inl, inr, ℕ, ◌≡◌, Bool, true, false, ◌&&◌, ◌==◌, ◌∙◌, List, [], ◌∷◌, Option, Some, None, refl, sym}
use proofs.Names.{ap, subst, and_parts, if◌then◌else◌, is_some, is_none, wrong, wrong', eq_self, AbortKind, Event}
use proofs.Names.{ProcId, is_message_out, Agreement, Connection, form_out, ScenarioValue, AbortDef, HostDef, Process}
use proofs.Names.{process_of, abort_line_at, abort_line_events, item_abort_events, bus_free_events, process, abort}
use proofs.Names.{Link, LastMessage, plain, abortive, unit_or_0, after_opening_events, connection_end_events, Serving}
use proofs.Names.{phase_leaving, bus_free, phase_entry, with_task, recovery, message_repetition, after_refusal}
use proofs.Names.{is_naming, parity_error, detected_error, answer_bytes, Cause, Leaving, Phase, Said, Task, host_of}
use proofs.Names.{is_unit, is_kind, is_process_named, is_abort_named, is_item_named, RunState, bus_of, same_events}
use proofs.Names.{same_kind, Understanding, nothing_understood, understood, AreWordsFor, refuses, answers, rejects_data}
use proofs.Names.{rejects_status, Speaks, none_some, by_option, IsClosing, LastAsked, LastIn}
use Rattle.row_laws.specs.book_laws.specs.Speaking.{opens}
use Rattle.row_laws.specs.link_laws.proofs.LeavingWays as ways

-- ---- a target that serves a process goes on but after the messages that end a connection

abbrev pub goes_on : Leaving → Bool
goes_on l = is_some l.to

-- ---- of a process that its initiator knows

closes : (s : ScenarioValue) (l : Link) → IsClosing l.last → [] ≡ bus_free_events s l l.last
closes s l (inl z) = ap (λ (y : LastMessage). bus_free_events s l y) (sym z)
closes s l (inr z) = ap (λ (y : LastMessage). bus_free_events s l y) (sym z)

loses : (s : ScenarioValue) (n : Connection) (v : Serving) (id : ProcId) (l : Link) → l.item ≡ Some (process id)
    → v.plan.said.aborts ≡ None → l.last ≡ plain
    → connection_end_events n v.plan Phase.MessageOut (Some id) ≡ bus_free_events s l l.last
loses s n v id l item none e =
    ap (λ (o : Option AbortKind). after_opening_events n v.plan.said o (Some id)) none
    ∙ (λ i. Rattle.due_model.specs.story_model.specs.HistoryEvents.item_loss_events (sym item i))
    ∙ ap (λ (y : LastMessage). bus_free_events s l y) (sym e)

lost : (s : ScenarioValue) (v : Serving) (n : Connection) (t : Task) (id : ProcId) (l : Link) {attention : Bool}
    {phase : Phase} {x : Leaving} → ways.Leaves v attention phase x → v.task ≡ Some t → l.item ≡ Some (process id)
    → (phase ≡ Phase.MessageOut → v.plan.said.aborts ≡ None) → LastIn v.plan attention l.last phase → goes_on x ≡ false
    → connection_end_events n v.plan phase (Some id) ≡ bus_free_events s l l.last
lost s v n t id l (ways.unserved _ u) e item none last to = none_some t (sym u ∙ e)
lost s v n t id l (ways.aborts _ a) e item none last to =
    wrong' (sym (ap (λ (o : Option AbortKind). is_some o) (none refl)) ∙ a)
lost s v n t id l (ways.loses_message r) e item none last to =
    loses s n v id l item (none refl) (subst (LastAsked v.plan l.last) r.cause last)
lost s v n t id l (ways.loses_status c) e item none last to =
    loses s n v id l item (none refl) (subst (LastAsked v.plan l.last) c last)
lost s v n t id l (ways.frees a f) e item none last to = closes s l (last a f)
lost s v n t id l _ e item none last to = wrong to

pub lost_told : (s : ScenarioValue) (v : Serving) (n : Connection) (t : Task) (id : ProcId) (l : Link)
    (attention : Bool) (phase : Phase) → v.task ≡ Some t → l.item ≡ Some (process id)
    → (phase ≡ Phase.MessageOut → v.plan.said.aborts ≡ None) → LastIn v.plan attention l.last phase
    → goes_on (phase_leaving v attention phase) ≡ false
    → connection_end_events n v.plan phase (Some id) ≡ bus_free_events s l l.last
lost_told s v n t id l attention phase = lost s v n t id l (ways.leaves v attention phase)

-- Before a name was heard the connection does not end.
pub naming_goes_on : (v : Serving) → is_naming v.plan.messages.first ≡ true → goes_on (after_refusal v) ≡ true
naming_goes_on v e = ap (λ (q : Bool). goes_on
    (if is_some v.plan.said.offer then phase_entry Phase.Command else if q then message_repetition v.plan
    else with_task v.task (λ t. recovery v.def t (message_repetition v.plan) bus_free))) e
    ∙ either (is_some v.plan.said.offer)
  where
    either : (q : Bool) → goes_on (if q then phase_entry Phase.Command else message_repetition v.plan) ≡ true
    either true = refl
    either false = refl

-- ---- of a process no abort is heard

refused_none : (understood nothing_understood parity_error).said.aborts ≡ None
unfolding form_out
refused_none = refl

detected_none : (understood nothing_understood detected_error).said.aborts ≡ None
unfolding form_out
detected_none = refl

answered_none : (h : Option HostDef) (a : Agreement)
    → (understood nothing_understood (answer_bytes h a)).said.aborts ≡ None
unfolding form_out
answered_none h a = refl

no_item : (a : Option AbortKind) → is_none a ≡ true → a ≡ None
no_item None e = refl
no_item (Some x) e = wrong' e

process_none : (s : ScenarioValue) (said : Said) (id : ProcId) (c : Process) → process_of s id ≡ Some c
    → is_item_named s said (Some (process id)) ≡ true → said.aborts ≡ None
process_none s said id c e h = no_item said.aborts (and_parts (is_none said.aborts)
    (is_unit said.unit c.unit) (and_parts (is_none said.aborts && is_unit said.unit c.unit)
    (Rattle.due_model.specs.Faithful.same_tag said.tag c.tag) (sym (ap (is_process_named said) e) ∙ h)).0).0

pub none_heard : (s : ScenarioValue) (k : RunState) (n : Connection) (id : ProcId) (t : Process)
    → Speaks s k n → k.served ≡ Some (process id) → process_of s id ≡ Some t → k.exchange.begun ≡ true
    → is_message_out (bus_of k) ≡ true → k.story.bus_state.dialogue.is_last ≡ true
    → (k.exchange.plan.cause ≡ Cause.Selected → is_item_named s k.exchange.plan.said k.served ≡ true)
    → k.exchange.plan.said.aborts ≡ None
none_heard s k n id t speaks served of b out last named =
    let w = speaks.in_message_out b out in
    go k.exchange.plan.cause refl w.words_for (w.heard.last last)
  where
    heard : (x : List ℕ) → k.exchange.speech.words ≡ x → (understood nothing_understood x).said.aborts ≡ None
        → Rattle.row_laws.specs.book_laws.specs.Listening.understanding k.exchange.plan k.story.bus_state.dialogue
        ≡ understood nothing_understood k.exchange.speech.words
        → k.exchange.plan.said.aborts ≡ None
    heard x e f g = ap (λ (u : Understanding). u.said.aborts) g
        ∙ ap (λ (y : List ℕ). (understood nothing_understood y).said.aborts) e ∙ f

    go : (cause : Cause) → k.exchange.plan.cause ≡ cause → AreWordsFor s n k.served k.exchange cause
        → Rattle.row_laws.specs.book_laws.specs.Listening.understanding k.exchange.plan k.story.bus_state.dialogue
        ≡ understood nothing_understood k.exchange.speech.words
        → k.exchange.plan.said.aborts ≡ None
    go _ c (opens e) g =
        process_none s k.exchange.plan.said id t of (ap (is_item_named s k.exchange.plan.said) (sym served) ∙ named c)
    go _ c (refuses e) g = heard parity_error e refused_none g
    go _ c (answers e) g = heard (answer_bytes (host_of s n.initiator) k.exchange.speech.asked) e
        (answered_none (host_of s n.initiator) k.exchange.speech.asked) g
    go _ c (rejects_data e) g = heard detected_error e detected_none g
    go _ c (rejects_status e) g = heard detected_error e detected_none g

-- ---- an abort

abort_same : (n : Connection) (said : Said) (a : AbortDef) (heard : AbortKind) → a.host ≡ n.initiator
    → a.target ≡ n.target → is_unit said.unit a.unit ≡ true → same_kind heard a.what ≡ true
    → same_events (Event.Aborted n.initiator n.target (unit_or_0 said.unit) heard ∷ [])
    (Event.Aborted a.host a.target a.unit a.what ∷ []) ≡ true
abort_same n said a heard host target unit kind =
    λ i. (own (n.initiator) a.host host i && own n.target a.target target i && named said.unit a.unit unit i && kind i)
    && true
  where
    own : (x y : ℕ) → y ≡ x → (x == y) ≡ true
    own x y e = ap (λ (z : ℕ). x == z) e ∙ eq_self x

    named : (u : Option ℕ) (unit : ℕ) → is_unit u unit ≡ true → (unit_or_0 u == unit) ≡ true
    named None unit e = wrong' e
    named (Some lun) unit e = e

pub abort_told : (s : ScenarioValue) (n : Connection) (v : Serving) (l : Link) (m : ℕ) (a : AbortDef)
    → l.item ≡ Some (abort m) → abort_line_at s.aborts m ≡ Some a → a.host ≡ n.initiator → a.target ≡ n.target
    → is_item_named s v.plan.said (Some (abort m)) ≡ true → LastAsked v.plan l.last Cause.Selected
    → same_events (connection_end_events n v.plan Phase.MessageOut None) (bus_free_events s l l.last) ≡ true
abort_told s n v l m a item line host target named last = by_option v.plan.said.aborts
    (λ e. wrong' (sym (ap (λ (o : Option AbortKind). is_kind o a.what) e) ∙ parts.1)) (λ what e. (λ i. same_events
    (after_opening_events n v.plan.said (e i) None) (sym (shown (last (ap (λ (o : Option AbortKind). is_some o) e))) i))
    ∙ abort_same n v.plan.said a what host target parts.0
    (sym (ap (λ (o : Option AbortKind). is_kind o a.what) e) ∙ parts.1))
  where
    parts : (is_unit v.plan.said.unit a.unit ≡ true) × (is_kind v.plan.said.aborts a.what ≡ true)
    parts = and_parts (is_unit v.plan.said.unit a.unit) (is_kind v.plan.said.aborts a.what)
        (sym (ap (is_abort_named v.plan.said) line) ∙ named)

    shown : l.last ≡ abortive → Event.Aborted a.host a.target a.unit a.what ∷ [] ≡ bus_free_events s l l.last
    shown z = (λ i. abort_line_events (sym line i)) ∙ (λ i. item_abort_events s (sym item i))
        ∙ ap (λ (y : LastMessage). bus_free_events s l y) (sym z)
