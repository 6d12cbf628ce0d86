-- DATA IN in which a byte was struck is left with ATN true (6.6.10): the process fails exactly where ATN is true, or a
-- struck byte waits for the ACK with which the initiator raises it; and that stays.
use Rattle.dialogue_laws.proofs
use proofs.Names.{inl, inr, ℕ, ◌≡◌, ◌⊎◌, ◌<◌, Bool, true, false, not, ◌&&◌, ◌||◌, ◌∙◌, List, [], ◌∷◌, Option, Some}
use proofs.Names.{None, refl, sym, ap, subst, same_Some, is_some, or_true, wrong, wrong', ProcId, change_of, LineSet}
use proofs.Names.{changes_phase, connection, is_fault, receiver_in, bus, Row, Change, Connection, Handshakes, first_of}
use proofs.Names.{handshakes, handshakes_after, newest_struck_if, with_last_struck, newest_struck, Request}
use proofs.Names.{INITIATOR_DETECTED_ERROR, ScenarioValue, Obeys, Process, RowReading, row_reading, Item, process, Link}
use proofs.Names.{begun, begun_after, phase_of, Phase, run_state_plain, IsPrompt, IsPlain, RunState, bus_of}
use proofs.Names.{carried_here, run_state, in_connection, Knows, IsRowIn, RowKind, crosses, still}
use proofs.Names.{strikes as fault_strikes, turns, is_struck_phase, change_plain, least_is, none_some, data_in_lines}
use proofs.Names.{not_message_in, not_message_out, GoingRow, RowKindOf, begins_now, connection_row, goes_now, going_row}
use proofs.Names.{row_kind, LinkRow, is_marked, code_if, same_phase_of, undo_asks, any_struck, Named, known, refused}
use proofs.Names.{said, SameFail, still_fails, in_none, out_none, quiet_same, fault_receives, or_left, last_struck}
use proofs.{Names.{Whole, standing_next, whole, SentTalk}, Leavings.Recoveries.{Left, id_served}}
use proofs.Struck.Complaints.{data_in_attends}

-- ATN is true, or a struck byte waits for its ACK.
abbrev owes : List Row → Bool
owes p = (bus p).atn || any_struck (handshakes p).waiting

abbrev RunFacts : ScenarioValue → List Row → Type 0
RunFacts s p = (n : Connection) (id : ProcId) → connection p ≡ Some n → (bus p).rst ≡ false → begun p ≡ true
    → phase_of (bus p) ≡ Phase.DataIn → (run_state s p).served ≡ Some (process id) → is_struck_phase s p ≡ true
    → owes p ≡ true

-- The initiator knows the process.
item_known : (s : ScenarioValue) (p : List Row) (n : Connection) (w : Knows s (run_state s p) n)
    → Whole s p → connection p ≡ Some n → (bus p).rst ≡ false → (bus_of (run_state s p)).msg ≡ false
    → (id : ProcId) → (run_state s p).served ≡ Some (process id) → w.link.item ≡ Some (process id)
item_known s p n w was con calm msg id served = by w.item_is
  where
    k : RunState
    k = run_state s p

    unnamed : {A : Type 0} → w.link.item ≡ None → Named s k n → A
    unnamed e (known l el f g) = wrong' (sym (ap (λ (o : Option Item). is_some o) e)
        ∙ ap (λ (x : Link). is_some x.item) (same_Some w.link l (sym w.link_is ∙ el)) ∙ f)
    unnamed e (said q l y on names whole) = wrong' (sym (not_message_in (bus_of k) msg) ∙ on)
    unnamed e (refused q l y on cause names) = wrong' (sym (not_message_out (bus_of k) msg) ∙ on)

    by : (w.link.item ≡ k.served) ⊎ ((n.reselected ≡ true) × (w.link.item ≡ None)) → w.link.item ≡ Some (process id)
    by (inl e) = e ∙ served
    by (inr e) = unnamed e.1 (was.facts.named n con calm e.0)

has_code : (b : Bool) (code : ℕ) → code_if b code ≡ Some code → b ≡ true
has_code true code e = refl
has_code false code e = none_some code e

run_next : (s : ScenarioValue) (p : List Row) (row : Row) → Obeys s → IsPrompt s (row ∷ p) → Whole s p
    → Whole s (row ∷ p) → RunFacts s p → RunFacts s (row ∷ p)
run_next s p row o prompt was now facts n id after calm b here served struck =
    by (row_kind s p row n o prompt was.stood after calm)
  where
    q : List Row
    q = row ∷ p

    k : RunState
    k = run_state s p

    c : Change
    c = change_of p row

    d : RowReading
    d = row_reading k.story.bus_state row

    lt : row.dev < 8
    lt = (least_is s p row prompt.1).inside

    pl : IsPlain s p k
    pl = run_state_plain s p was.stood.standing.devices

    change : d.change ≡ c
    change = change_plain s row p was.stood.standing.devices lt

    parts : (x y z w : Bool) → (x && y && not z && w) ≡ true → (x ≡ true) × (z ≡ false) × (w ≡ true)
    parts true true false true e = (refl, refl, refl)
    parts _ _ _ _ e = wrong' e

    all : (is_some k.story.bus_state.connection ≡ true) × (changes_phase d.change ≡ false)
        × ((is_fault row.kind || is_struck_phase s p) ≡ true)
    all = parts (is_some k.story.bus_state.connection) (is_some d.next) (changes_phase d.change)
        (is_fault row.kind || is_struck_phase s p) struck

    ep : changes_phase c ≡ false
    ep = ap changes_phase (sym change) ∙ all.1

    goes : connection p ≡ Some n → (bus p).rst ≡ false → owes q ≡ true
    goes con off = on (is_fault row.kind) refl
      where
        phase : phase_of (bus p) ≡ Phase.DataIn
        phase = sym (same_phase_of c ep) ∙ here

        started : begun p ≡ true
        started = or_left (begun p)
            ((λ i. sym ep i || begun p) ∙ (λ i. begun_after (begun p) (sym con i) (sym after i) c) ∙ b)

        link : LinkRow s p n row
        link = (connection_row s p row n o prompt was.stood con off calm).link

        g : GoingRow s p row n
        g = going_row s p row n was.stood.standing.devices lt con after calm (standing_next s p row o prompt was).row_is
            (connection_row s p row n o prompt was.stood con off calm).facts

        row_is : IsRowIn k row n c
        row_is = subst (λ (x : Change). IsRowIn k row n x) g.change_is g.goes.row_is

        served_before : k.served ≡ Some (process id)
        served_before = sym (in_connection s k row n c false (is_some (receiver_in n c))
            (is_fault row.kind) row_is ep refl refl).served_is
            ∙ served

        t : SentTalk s p
        t = was.sent n con off started phase

        lines : ((bus p).msg ≡ false) × ((bus p).cd ≡ false) × ((bus p).io ≡ true)
        lines = data_in_lines (bus p) phase

        w : Knows s k n
        w = was.stood.books.knows n (pl.connection ∙ con) (ap (λ (l : LineSet). l.rst) pl.bus ∙ off)

        same_failure : is_fault row.kind ≡ false → RowKind row n c
            → SameFail (carried_here k id) (carried_here (run_state s q) id)
        same_failure ef (still e f er) =
            still_fails s k row n c w.link row_is (ap (λ (z : Option ℕ). is_some z) er) w.link_is ef id
        same_failure ef (fault_strikes e f er) = wrong (sym e ∙ ef)
        same_failure ef (crosses dev e f er) = quiet_same s k row n c w.link id (record {
          row_is = row_is;
          link_is = w.link_is;
          item_is =
              inl (item_known s p n w was con off (ap (λ (l : LineSet). l.msg) pl.bus ∙ lines.0) id served_before);
          undoes = undo_asks is_marked s p row was.stood (standing_next s p row o prompt was) was.facts.undo;
        }) (ap (λ (z : Option ℕ). is_some z) er) (out_none k c (not_message_out (bus p) lines.0))
            (in_none k c (not_message_in (bus p) lines.0))
        same_failure ef (turns e f er) = wrong (sym f ∙ ep)

        on : (x : Bool) → is_fault row.kind ≡ x → owes q ≡ true
        on true ef = ap (λ (x : Handshakes). (bus q).atn || any_struck x.waiting) hand
            ∙ ap (λ (x : Bool). (bus q).atn || x)
            (last_struck (handshakes p).waiting (t.received (fault_receives s p row n ef link)))
            ∙ or_true (bus q).atn
          where
            hand : handshakes q ≡ newest_struck (handshakes p)
            hand = ap (λ (x : Bool). handshakes_after x (connection q) c row.time (handshakes p)) ef
                ∙ ap (λ (x : Bool). newest_struck_if x (handshakes p)) lines.2
        on false ef =
            let before : is_struck_phase s p ≡ true = ap (λ (x : Bool). x || is_struck_phase s p) (sym ef) ∙ all.2 in
            has_code (owes q) INITIATOR_DETECTED_ERROR (sym ((now.sent n after calm b here).code id served)
            ∙ (same_failure ef row_is.kind).failure ∙ t.code id served_before ∙ ap
            (λ (x : Bool). code_if x INITIATOR_DETECTED_ERROR) (facts n id con off started phase served_before before))

    by : RowKindOf s p row n → owes q ≡ true
    by (begins_now alone f) = wrong' (sym (ap (λ (x : Option Connection). is_some x) (pl.connection ∙ alone)) ∙ all.0)
    by (goes_now con off) = goes con off

runs : (s : ScenarioValue) (p : List Row) → Obeys s → IsPrompt s p → RunFacts s p
runs s [] o prompt = λ n id e off b here served struck. none_some n e
runs s (row ∷ p) o prompt =
    run_next s p row o prompt (whole s p o prompt.0) (whole s (row ∷ p) o prompt) (runs s p o prompt.0)

-- As DATA IN is left ATN is true.
pub run_attends : (s : ScenarioValue) (p : List Row) (row : Row) (n : Connection) (q : Process) → Obeys s
    → IsPrompt s (row ∷ p) → Left s p row n q → phase_of (bus p) ≡ Phase.DataIn → is_struck_phase s p ≡ true
    → (bus p).atn ≡ true
run_attends s p row n q o prompt h e struck =
    has_code (bus p).atn INITIATOR_DETECTED_ERROR (sym (data_in_attends s p row n q o prompt h e)
    ∙ (was.sent n h.leaving_row.stands h.leaving_row.calm started e).code q.id (id_served s p row n q h)
    ∙ ap (λ (x : Bool). code_if x INITIATOR_DETECTED_ERROR)
    (runs s p o prompt.0 n q.id h.leaving_row.stands h.leaving_row.calm started e (id_served s p row n q h) struck))
  where
    was : Whole s p
    was = h.end.was

    pl : IsPlain s p (run_state s p)
    pl = run_state_plain s p was.stood.standing.devices

    started : begun p ≡ true
    started = sym pl.begun ∙ h.leaving_row.begun
