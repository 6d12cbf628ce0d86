-- Of a prompt trace: the initiator complains only of a phase in which a byte was struck (6.6.10, 6.6.13).
use Rattle.story_laws.proofs
use proofs.Names.{ℕ, ◌≡◌, inl, inr, Bool, true, false, not, ◌&&◌, ◌||◌, ◌∙◌, List, ◌∷◌, Option, Some, None, refl, sym}
use proofs.Names.{ap, if◌then◌else◌, is_none, is_some, wrong, wrong', change_of, LineSet, changes_phase, is_message_in}
use proofs.Names.{is_message_out, connection, connection_after, bus, Row, Agreement, Change, Connection, form_out}
use proofs.Names.{Dialogue, ScenarioValue, Obeys, HostDef, RowReading, row_reading, Speech, phase_of, answer_bytes}
use proofs.Names.{host_answer, Cause, Phase, Plan, IsLeast, due, IsPrompt, RunState, bus_of, run_state, out_over}
use proofs.Names.{Understanding, nothing_understood, understood, IsOver, AreWordsHeard, Speaks, is_complaining}
use proofs.Names.{is_complaint, is_left, is_refusing, is_true_complaint, change_plain, least_is, link_calm, AnyStage}
use proofs.Names.{apart, linked, none_some, out_lines, connection_row, stage_of_connection, RowFacts, ends_here, stays}
use proofs.Names.{NextStood, Stood, apart_connection, link_phase, ComplaintFacts, Refuses, IsCalmTurn}

-- ---- the answer to a request is heard as one

answer_offers : (h : Option HostDef) (a : Agreement)
    → (understood nothing_understood (answer_bytes h a)).said.offer ≡ Some (host_answer h a)
unfolding form_out
answer_offers h a = refl

offered : (v : Speech) (l : Plan) (d : Dialogue) (h : Option HostDef) (a : Agreement) → AreWordsHeard v l d
    → d.is_last ≡ true → v.words ≡ answer_bytes h a → is_none l.said.offer ≡ false
offered v l d h a heard last w = ap (λ (u : Understanding). is_none u.said.offer) (heard.last last)
    ∙ ap (λ (x : List ℕ). is_none (understood nothing_understood x).said.offer) w
    ∙ ap (λ (o : Option Agreement). is_none o) (answer_offers h a)

-- ---- as MESSAGE OUT is left

refused_truly : (s : ScenarioValue) (k : RunState) (n : Connection) (refusing : Bool) → Speaks s k n
    → k.exchange.begun ≡ true → is_message_out (bus_of k) ≡ true → IsOver s k n → (c : Cause) → Refuses refusing k c
    → is_complaint k.exchange.plan c ≡ true → refusing ≡ true
refused_truly s k n refusing speaks b out over Cause.Selected h e = wrong' e
refused_truly s k n refusing speaks b out over Cause.InData h e = h
refused_truly s k n refusing speaks b out over Cause.InStatus h e = h
refused_truly s k n refusing speaks b out over Cause.InMessage (inl z) e = z
refused_truly s k n refusing speaks b out over Cause.InMessage (inr (x, a, w)) e =
    wrong (sym e ∙ offered k.exchange.speech k.exchange.plan k.story.bus_state.dialogue x a
    (speaks.in_message_out b out).heard (out_over s k n out over) w)

complaining_out : (l : Plan) (x : Phase) → is_complaining l x ≡ true
    → (x ≡ Phase.MessageOut) × (is_complaint l l.cause ≡ true)
complaining_out l Phase.MessageOut e = (refl, e)
complaining_out l _ e = wrong' e

where_asked : (a b r : Bool) → (a ≡ true → b ≡ true → r ≡ true) → (not (a && b) || r) ≡ true
where_asked false b r f = refl
where_asked true false r f = refl
where_asked true true r f = f refl refl

not_out : (b : LineSet) → is_message_in b ≡ true → phase_of b ≡ Phase.MessageOut → ⊥
not_out b e f = go b.msg b.cd b.io e f
  where
    go : (m d i : Bool) → (m && d && i) ≡ true → (if m then (if i then Phase.MessageIn else Phase.MessageOut)
        else if d then (if i then Phase.Status else Phase.Command) else if i then Phase.DataIn else Phase.DataOut)
        ≡ Phase.MessageOut → ⊥
    go true true true z f = absurd cc
    go true true false z f = wrong' z
    go true false i z f = wrong' z
    go false d i z f = wrong' z

pub complained_row : (s : ScenarioValue) (p : List Row) (row : Row) → Obeys s → IsPrompt s (row ∷ p) → Stood s p
    → NextStood s p row → IsCalmTurn (row_reading (run_state s p).story.bus_state row) → ComplaintFacts s p
    → is_true_complaint (run_state s p) (row_reading (run_state s p).story.bus_state row) (is_refusing s p) ≡ true
complained_row s p row o prompt was nx calm facts = where_asked (is_left k d)
    (is_complaining k.exchange.plan (phase_of (bus_of k))) (is_refusing s p) (λ l c. go l c (connection p) refl)
  where
    k : RunState
    k = run_state s p

    d : RowReading
    d = row_reading k.story.bus_state row

    m : IsLeast (due s p) 8 row
    m = least_is s p row prompt.1

    change : d.change ≡ change_of p row
    change = change_plain s row p was.standing.devices m.inside

    parts : is_left k d ≡ true → (is_some k.story.bus_state.connection ≡ true) × (k.exchange.begun ≡ true)
        × ((if is_some d.next then changes_phase d.change else not d.change.after.rst) ≡ true)
    parts e = three (is_some k.story.bus_state.connection) k.exchange.begun
        (if is_some d.next then changes_phase d.change else not d.change.after.rst) e
      where
        three : (a b c : Bool) → (a && b && c) ≡ true → (a ≡ true) × (b ≡ true) × (c ≡ true)
        three true true c z = (refl, refl, z)
        three true false c z = wrong' z
        three false b c z = wrong' z

    -- RST is false before and after
    by_over : (n : Connection) → connection p ≡ Some n → (bus p).rst ≡ false → k.exchange.begun ≡ true → IsOver s k n
        → is_complaining k.exchange.plan (phase_of (bus_of k)) ≡ true → is_refusing s p ≡ true
    by_over n con quiet b over c =
        let w = complaining_out k.exchange.plan (phase_of (bus_of k)) c in
        let stage = stage_of_connection s p n was con quiet in
        let out = out_lines (bus_of k) w.0 (λ z. ap (λ (l : LineSet). l.cd) was.plain.bus
        ∙ (link_phase s p n stage (ap (λ (l : LineSet). l.msg) (sym was.plain.bus) ∙ z)).0) in
        refused_truly s k n (is_refusing s p)
        (was.books.speaks n (was.plain.connection ∙ con) (ap (λ (l : LineSet). l.rst) was.plain.bus ∙ quiet)) b out over
        k.exchange.plan.cause ((facts n con quiet b).refuses w.0) w.1

    by_facts : (n : Connection) → connection p ≡ Some n → (bus p).rst ≡ false → RowFacts s p row n → is_left k d ≡ true
        → is_complaining k.exchange.plan (phase_of (bus_of k)) ≡ true → is_refusing s p ≡ true
    by_facts n con quiet (ends_here g) l c = by_over n con quiet (was.plain.begun ∙ g.begun_is) g.over c
    by_facts n con quiet (stays g) l c =
        let x = parts l in
        let goes : is_some d.next ≡ true =
        (λ i. is_some (connection_after (g.row_is.connection_is i) k.story.bus_state.call (g.row_is.change_is i) row))
        ∙ ap (λ (q : Bool). is_some (if q then Some n else None)) g.row_is.stands in
        let ep : changes_phase g.change ≡ true = ap changes_phase (sym g.row_is.change_is)
        ∙ sym (ap (λ (q : Bool). if q then changes_phase d.change else not d.change.after.rst) goes) ∙ x.2 in
        by_over n con quiet x.1 (g.over ep (sym was.plain.begun ∙ x.1)) c

    -- RST is true before, or after
    some_next : (n : Connection) → (q : Bool) → is_some d.next ≡ q → is_left k d ≡ true
        → (d.change.after.rst ≡ true) → (q ≡ true) × (changes_phase d.change ≡ true)
    some_next n true e l on =
        (refl, sym (ap (λ (q : Bool). if q then changes_phase d.change else not d.change.after.rst) e) ∙ (parts l).2)
    some_next n false e l on =
        wrong' (sym (ap (λ (q : Bool). if q then changes_phase d.change else not d.change.after.rst) e ∙ ap not on)
        ∙ (parts l).2)

    under : (n : Connection) → is_left k d ≡ true → is_complaining k.exchange.plan (phase_of (bus_of k)) ≡ true
        → (bus (row ∷ p)).rst ≡ true → ⊥
    under n l c on =
        let after : d.change.after.rst ≡ true = ap (λ (x : Change). x.after.rst) change ∙ on in
        let w = some_next n (is_some d.next) refl l after in
        elim (calm w.0 w.1) [
          | inl z ↦ wrong (sym after ∙ z.1)
          | inr z ↦ not_out (bus_of k) z (complaining_out k.exchange.plan (phase_of (bus_of k)) c).0
        ]

    ended : AnyStage s p → (n : Connection) → connection p ≡ Some n → (bus p).rst ≡ true → (bus (row ∷ p)).rst ≡ false
        → ⊥
    ended (apart h alone) n con on off =
        none_some n (sym (apart_connection s p row m.inside nx.obeys h alone off) ∙ con)
    ended (linked x h) n con on off = wrong (sym on ∙ link_calm s p x h)

    by_rst : (n : Connection) → connection p ≡ Some n → (q r : Bool) → (bus (row ∷ p)).rst ≡ q → (bus p).rst ≡ r
        → is_left k d ≡ true → is_complaining k.exchange.plan (phase_of (bus_of k)) ≡ true → is_refusing s p ≡ true
    by_rst n con true r f g l c = absurd (under n l c f)
    by_rst n con false true f g l c = absurd (ended was.here n con g f)
    by_rst n con false false f g l c = by_facts n con g (connection_row s p row n o prompt was con g f).facts l c

    go : is_left k d ≡ true → is_complaining k.exchange.plan (phase_of (bus_of k)) ≡ true
        → (x : Option Connection) → connection p ≡ x → is_refusing s p ≡ true
    go l c None e = wrong' (sym (ap (λ (x : Option Connection). is_some x) (was.plain.connection ∙ e)) ∙ (parts l).0)
    go l c (Some n) e = by_rst n e (bus (row ∷ p)).rst (bus p).rst refl refl l c
