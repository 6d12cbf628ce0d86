-- The table of phases along a row that turns to another phase, none of data: a phase less is left than was left, with
-- what a struck byte of the phase calls for.
use Rattle.measure_laws.proofs
use proofs.Names.{inl, inr, ℕ, suc, ◌≡◌, ◌≤◌, ◌∙◌, Bool, true, false, ◌&&◌, List, ◌∷◌, Option, Some, None, refl, sym}
use proofs.Names.{ap, subst, arith, and_parts, ◌+◌, ◌*◌, not, ◌||◌, if◌then◌else◌, is_none, is_some, wrong, wrong'}
use proofs.Names.{LineSet, changes_phase, is_data, is_message_out, connection, Row, Agreement, Change, Connection}
use proofs.Names.{ScenarioValue, Obeys, RowReading, row_reading, plan_anew, Serving, phase_entry, phase_leaving}
use proofs.Names.{phase_of, plan_in_message_out, Cause, Leaving, Messages, Next, Phase, Plan, IsPrompt, IsPlain}
use proofs.Names.{RunState, bus_of, run_state, hearing_of, leaving, serving_of, out_over, reading_in, complains_truly}
use proofs.Names.{is_complaint, is_complaining, is_left, is_refusing, is_struck_phase, is_true_complaint, out_lines}
use proofs.Names.{by_bool, stage_of_connection, link_phase, refusal_offers_none, refuses_later, whole, measure}
use proofs.Names.{after_next, after_refused, after_words, phases_in, phases_left, struck_left, for_phase}
use proofs.{Names.{for_reselection}, Turns.Falls.{TurnRow, turn_falls, turn_in, turn_phases, no_data_out, no_data_in}}
use proofs.Turns.{Struck.{struck_known}, Table.{left_of}}
use Rattle.measure_laws.specs.Turns.{after_answer}
use Rattle.progress_laws.specs.link_laws.proofs.LeavingWays as ways

-- ---- any phase but data

none_some_not : (o : Option Agreement) → is_some o ≡ false → is_none o ≡ true
none_some_not None e = refl
none_some_not (Some a) e = wrong' (sym e)

answered : (r : Bool) (l : Plan) → l.next ≡ Next.Command → 1024 + 5 * 128 ≤ after_refused r l
answered true l e = subst (λ (x : Next). 1024 + 5 * 128 ≤ 128 + after_next l.messages x) (sym e) (omega arith)
answered false l e = subst (λ (x : Next). 1024 + 5 * 128 ≤ after_answer x) (sym e) (omega arith)

pub record OutFacts (r : Bool) (l : Plan) : Type 0 where
  pub truly : is_complaint l l.cause ≡ true → r ≡ true
  pub asked : l.cause ≡ Cause.InMessage → is_some l.said.offer ≡ true → l.next ≡ Next.Command

-- What MESSAGE OUT pays for by its cause, and with a complaint; and MESSAGE IN by what follows it.
by_cause : (s : ScenarioValue) (r q : Bool) (l : Plan) (c : Cause) → l.cause ≡ c → (x : ℕ) → x ≤ after_words r l c
    → x ≤ after_words r l l.cause + struck_left s q
by_cause s r q l c e x h = let w = subst (λ (y : Cause). x ≤ after_words r l y) (sym e) h in omega arith

by_complaint : (s : ScenarioValue) (r q : Bool) (l : Plan) (c : Cause) → l.cause ≡ c → OutFacts r l
    → is_complaint l c ≡ true → (x : ℕ) → x ≤ after_words true l c → x ≤ after_words r l l.cause + struck_left s q
by_complaint s r q l c e out is x h =
    by_cause s r q l c e x
    (subst (λ (y : Bool). x ≤ after_words y l c) (sym (out.truly (ap (is_complaint l) e ∙ is))) h)

by_answer : (s : ScenarioValue) (r q : Bool) (l : Plan) → l.cause ≡ Cause.InMessage → OutFacts r l
    → is_some l.said.offer ≡ true → 1024 + 5 * 128 ≤ after_words r l l.cause + struck_left s q
by_answer s r q l e out some = by_cause s r q l Cause.InMessage e (1024 + 5 * 128) (answered r l (out.asked e some))

by_next : (s : ScenarioValue) (q : Bool) (l : Plan) (z : Next) → l.next ≡ z → (x : ℕ) → x ≤ after_next l.messages z
    → x ≤ after_next l.messages l.next + struck_left s q
by_next s q l z e x h = let w = subst (λ (y : Next). x ≤ after_next l.messages y) (sym e) h in omega arith

-- The phase itself is paid for.
next_least : (m : Messages) (x : Next) → 128 ≤ after_next m x
next_least m Next.Command = omega arith
next_least m _ = omega arith

out_least : (s : ScenarioValue) (r q : Bool) (l : Plan) → OutFacts r l → (c : Cause) → l.cause ≡ c
    → 128 ≤ after_words r l l.cause + struck_left s q
out_least s r q l out Cause.Selected e = by_cause s r q l Cause.Selected e 128 (omega arith)
out_least s r q l out Cause.InData e = by_complaint s r q l Cause.InData e out refl 128 (omega arith)
out_least s r q l out Cause.InStatus e = by_complaint s r q l Cause.InStatus e out refl 128 (omega arith)
out_least s r q l out Cause.InMessage e =
    by_bool (is_some l.said.offer)
    (λ some. let w = by_answer s r q l e out some in omega arith)
    (λ none.
    by_complaint s r q l Cause.InMessage e out (none_some_not l.said.offer none) 128 (omega arith))

least : (s : ScenarioValue) (r q : Bool) (l : Plan) (phase : Phase) → (phase ≡ Phase.MessageOut → OutFacts r l)
    → 128 ≤ phases_in r l phase + struck_left s q
least s r q l Phase.MessageOut out = out_least s r q l (out refl) l.cause refl
least s r q l Phase.MessageIn out = let w = next_least l.messages l.next in omega arith
least s r q l _ out = omega arith

goes_on : (s : ScenarioValue) (v : Serving) (r q : Bool) {atn : Bool} {phase : Phase} → ways.GoesOn v atn phase
    → 3 * 128 + 128 ≤ phases_in r v.plan phase + struck_left s q
goes_on s v r q (ways.planned _ n) = by_next s q v.plan Next.GoOn n (3 * 128 + 128) (omega arith)
goes_on s v r q (ways.at_once _ _) = omega arith
goes_on s v r q (ways.guest _ _) = omega arith

moved : {A : Type 0} {v : Serving} {atn : Bool} {phase : Phase} → ways.IsMoved v atn phase
    → (phase ≡ Phase.DataIn → ⊥) → (phase ≡ Phase.DataOut → ⊥) → A
moved (ways.given _) fi fo = absurd (fi refl)
moved (ways.sent _) fi fo = absurd (fo refl)

pays : (s : ScenarioValue) (v : Serving) (r q : Bool) {atn : Bool} {phase : Phase} {l : Leaving}
    → ways.Leaves v atn phase l → (v.plan.struck ≡ true → q ≡ true) → (phase ≡ Phase.MessageOut → OutFacts r v.plan)
    → (phase ≡ Phase.DataIn → ⊥) → (phase ≡ Phase.DataOut → ⊥)
    → left_of l + 128 ≤ phases_in r v.plan phase + struck_left s q
pays s v r q (ways.attended phase _ _) struck out fi fo = least s r q v.plan phase out
pays s v r q (ways.unserved phase _) struck out fi fo = least s r q v.plan phase out
pays s v r q (ways.aborts _ _) struck out fi fo = least s r q v.plan Phase.MessageOut out
pays s v r q (ways.loses_message _) struck out fi fo = least s r q v.plan Phase.MessageOut out
pays s v r q (ways.loses_status _) struck out fi fo = least s r q v.plan Phase.MessageOut out
pays s v r q (ways.frees _ _) struck out fi fo = least s r q v.plan Phase.MessageIn out
pays s v r q (ways.rejects _ o _) struck out fi fo = by_cause s r q v.plan Cause.Selected o.cause _ (omega arith)
pays s v r q (ways.answers _ o _) struck out fi fo = by_cause s r q v.plan Cause.Selected o.cause _ (omega arith)
pays s v r q (ways.requests _ o _ _) struck out fi fo = by_cause s r q v.plan Cause.Selected o.cause _ (omega arith)
pays s v r q (ways.opens o _) struck out fi fo = by_cause s r q v.plan Cause.Selected o.cause _ (omega arith)
pays s v r q (ways.is_answered c e) struck out fi fo = by_answer s r q v.plan c (out refl) e
pays s v r q (ways.repeats _ w) struck out fi fo =
    by_complaint s r q v.plan Cause.InMessage w.cause (out refl) (none_some_not v.plan.said.offer w.none)
    (after_next v.plan.messages v.plan.next + 128) (omega arith)
pays s v r q (ways.restores _ _ _ (ways.data_in c)) struck out fi fo =
    by_complaint s r q v.plan Cause.InData c (out refl) refl (5 * 128) (omega arith)
pays s v r q (ways.gives_up _ _ (ways.data_in c)) struck out fi fo =
    by_complaint s r q v.plan Cause.InData c (out refl) refl (3 * 128) (omega arith)
pays s v r q (ways.restores_status _ c) struck out fi fo =
    by_complaint s r q v.plan Cause.InStatus c (out refl) refl (4 * 128) (omega arith)
pays s v r q (ways.restores _ _ _ (ways.command e)) struck out fi fo =
    subst (λ (x : Bool). 1024 + 7 * 128 ≤ 1024 + 4 * 128 + struck_left s x) (sym (struck e)) (omega arith)
pays s v r q (ways.commands _ n) struck out fi fo = by_next s q v.plan Next.Command n (1024 + 5 * 128) (omega arith)
pays s v r q (ways.ends_in_status _ n) struck out fi fo = by_next s q v.plan Next.Status n (3 * 128) (omega arith)
pays s v r q (ways.reads _ _ g _) struck out fi fo = goes_on s v r q g
pays s v r q (ways.writes _ _ g _) struck out fi fo = goes_on s v r q g
pays s v r q (ways.moves_none _ _ g _) struck out fi fo = let w = goes_on s v r q g in omega arith
pays s v r q (ways.restores _ _ _ (ways.data_out _)) struck out fi fo = absurd (fo refl)
pays s v r q (ways.gives_up _ _ (ways.data_out _)) struck out fi fo = absurd (fo refl)
pays s v r q (ways.saves _ _ m _ _) struck out fi fo = moved m fi fo
pays s v r q (ways.disconnects _ _ m _ _) struck out fi fo = moved m fi fo
pays s v r q (ways.ends_runs _ _ m _) struck out fi fo = moved m fi fo
pays s v r q _ struck out fi fo = omega arith

pub phase_pays : (s : ScenarioValue) (v : Serving) (atn r q : Bool) (phase : Phase)
    → (v.plan.struck ≡ true → q ≡ true) → (phase ≡ Phase.MessageOut → OutFacts r v.plan)
    → (phase ≡ Phase.DataIn → ⊥) → (phase ≡ Phase.DataOut → ⊥)
    → left_of (phase_leaving v atn phase) + 128 ≤ phases_in r v.plan phase + struck_left s q
phase_pays s v atn r q phase = pays s v r q (ways.leaves v atn phase)

-- ---- what is known of MESSAGE OUT as it is left

pub out_facts : (s : ScenarioValue) (p : List Row) (row : Row) (n : Connection) (c : Change) → Obeys s
    → IsPrompt s (row ∷ p) → TurnRow s p row n c → connection p ≡ Some n → (run_state s p).exchange.begun ≡ true
    → phase_of (bus_of (run_state s p)) ≡ Phase.MessageOut → OutFacts (is_refusing s p) (run_state s p).exchange.plan
out_facts s p row n c o prompt h con begun out = record { truly = truly; asked = asked }
  where
    k : RunState
    k = run_state s p

    d : RowReading
    d = row_reading k.story.bus_state row

    pk : IsPlain s p k
    pk = h.was.stood.plain

    there : is_message_out (bus_of k) ≡ true
    there =
        let stage = stage_of_connection s p n h.was.stood con h.off in
        out_lines (bus_of k) out (λ z. ap (λ (l : LineSet). l.cd) pk.bus
        ∙ (link_phase s p n stage (ap (λ (l : LineSet). l.msg) (sym pk.bus) ∙ z)).0)

    truly : is_complaint k.exchange.plan k.exchange.plan.cause ≡ true → is_refusing s p ≡ true
    truly e =
        let all = (whole s (row ∷ p) o prompt).complains in
        let two = and_parts (complains_truly s p) (is_true_complaint k d (is_refusing s p)) all in
        let t = turn_in s p row n c h in
        let gone : is_left k d ≡ true = (λ i. is_some (h.goes.row_is.connection_is i) && begun i
        && (if is_some d.next then changes_phase d.change else not d.change.after.rst))
        ∙ (λ i. if is_some (t.connection_is i) then changes_phase (h.goes.row_is.change_is i)
        else not d.change.after.rst) ∙ h.turned in
        let said : is_complaining k.exchange.plan (phase_of (bus_of k)) ≡ true =
        ap (λ (x : Phase). is_complaining k.exchange.plan x) out ∙ e in
        sym (λ i. not (gone i && said i) || is_refusing s p) ∙ two.1

    asked : k.exchange.plan.cause ≡ Cause.InMessage → is_some k.exchange.plan.said.offer ≡ true
        → k.exchange.plan.next ≡ Next.Command
    asked e f = elim (refuses_later s p n h.was.facts.offers con h.off begun there e) [
      | inl z ↦ z
      | inr z ↦ wrong (sym f ∙ ap (λ (x : Option Agreement). is_some x)
          (refusal_offers_none k.exchange.speech k.exchange.plan k.story.bus_state.dialogue
          ((h.was.stood.books.speaks n h.goes.row_is.connection_is h.goes.calm).in_message_out begun there).heard
          (out_over s k n there (h.lines.over (ap changes_phase h.lines_are ∙ h.turned) (sym pk.begun ∙ begun))) z))
    ]

-- ---- the first MESSAGE OUT after a selection

first_words : (r : Bool) (l : Plan) (phase : Phase) → l.cause ≡ Cause.Selected → phase ≡ Phase.MessageOut
    → phases_in r (plan_anew l) phase ≡ 1024 + 7 * 128
first_words r l phase e f = λ i. phases_in r (record (plan_anew l) { cause = e i }) (f i)

pub opening_falls : (s : ScenarioValue) (p : List Row) (row : Row) (n : Connection) (c : Change) → TurnRow s p row n c
    → (run_state s p).exchange.begun ≡ false → suc (measure s (row ∷ p)) ≤ measure s p
opening_falls s p row n c h begun =
    let k = run_state s p in
    let j = run_state s (row ∷ p) in
    let t = turn_in s p row n c h in
    let l = leaving s k n.target in
    let w = hearing_of k row (reading_in k.story.bus_state n c false) in
    let b = h.was.stood.plain.begun in
    let out : is_message_out c.after ≡ true = ap (λ (x : Change). is_message_out x.after) (sym h.lines_are)
    ∙ h.lines.first (ap changes_phase h.lines_are ∙ h.turned) (sym b ∙ begun) in
    let about = (h.was.stood.books.speaks n h.goes.row_is.connection_is h.goes.calm).before_all begun in
    let r = is_refusing s (row ∷ p) in
    let after : phases_left r j ≡ 1024 + 7 * 128 =
    (λ i. if (t.exchange_is i).begun then phases_in r (t.exchange_is i).plan (phase_of (t.bus_is i))
    else for_reselection + 8 * for_phase)
    ∙ (λ i. phases_in r (if not (out i) then record (plan_anew k.exchange.plan) { messages = l.messages; next = l.next }
    else if begun i then plan_in_message_out w k.exchange.plan else plan_anew k.exchange.plan) (phase_of c.after))
    ∙ first_words r k.exchange.plan (phase_of c.after) about.cause_is (out_phase c.after out) in
    let before : phases_left (is_refusing s p) k ≡ 1024 + 8 * 128 = λ i. if begun i
    then phases_in (is_refusing s p) k.exchange.plan (phase_of (bus_of k)) else for_reselection + 8 * for_phase in
    turn_falls s p row n c h (λ i. begun i && is_data (bus_of k)) (no_data c.after out) (pays _ _ _ after before)
  where
    pays : (a b u : ℕ) → a ≡ 1024 + 7 * 128 → b ≡ 1024 + 8 * 128 → a + 128 ≤ b + u
    pays a b u e f = omega arith

    no_data : (l : LineSet) → is_message_out l ≡ true → is_data l ≡ false
    no_data l e = go l.msg l.cd l.io e
      where
        go : (m d i : Bool) → (m && d && not i) ≡ true → (not m && not d) ≡ false
        go true d i z = refl
        go false d i z = wrong' z

    out_phase : (l : LineSet) → is_message_out l ≡ true → phase_of l ≡ Phase.MessageOut
    out_phase l e = go l.msg l.cd l.io e
      where
        go : (m d i : Bool) → (m && d && not i) ≡ true
            → (if m then (if i then Phase.MessageIn else Phase.MessageOut)
            else if d then (if i then Phase.Status else Phase.Command) else if i then Phase.DataIn else Phase.DataOut)
            ≡ Phase.MessageOut
        go true true false z = refl
        go true true true z = wrong' z
        go true false i z = wrong' z
        go false d i z = wrong' z

-- ---- the row

pub named_turn_falls : (s : ScenarioValue) (p : List Row) (row : Row) (n : Connection) (c : Change) → Obeys s
    → IsPrompt s (row ∷ p) → TurnRow s p row n c → connection p ≡ Some n → (run_state s p).exchange.begun ≡ true
    → is_data (bus_of (run_state s p)) ≡ false → is_data c.after ≡ false → is_message_out c.after ≡ false
    → (c.after.msg ≡ true → c.after.cd ≡ true) → suc (measure s (row ∷ p)) ≤ measure s p
named_turn_falls s p row n c o prompt h con begun from to other known =
    let k = run_state s p in
    let left : leaving s k n.target ≡ phase_leaving (serving_of s k n.target) (bus_of k).atn (phase_of (bus_of k)) =
    λ i. if begun i then phase_leaving (serving_of s k n.target) (bus_of k).atn (phase_of (bus_of k))
    else phase_entry Phase.MessageOut in
    let after = turn_phases s p row n c h begun other known (is_refusing s (row ∷ p)) ∙ ap left_of left in
    let before : phases_left (is_refusing s p) k ≡ phases_in (is_refusing s p) k.exchange.plan (phase_of (bus_of k)) =
    λ i. if begun i then phases_in (is_refusing s p) k.exchange.plan (phase_of (bus_of k))
    else for_reselection + 8 * for_phase in
    turn_falls s p row n c h (λ i. begun i && from i) to
    (replaced _ _ _ _ _ after before (phase_pays s (serving_of s k n.target) (bus_of k).atn
    (is_refusing s p) (is_struck_phase s p) (phase_of (bus_of k)) (λ z. (struck_known s p z).0)
    (out_facts s p row n c o prompt h con begun) (no_data_in (bus_of k) from) (no_data_out (bus_of k) from)))
  where
    replaced : (a b x y u : ℕ) → a ≡ x → b ≡ y → x + 128 ≤ y + u → a + 128 ≤ b + u
    replaced a b x y u e f g = omega arith
