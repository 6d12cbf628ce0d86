-- The data pointers of the process that is served, as the next phase begins.
use Rattle.story_laws.proofs
use proofs.Names.{ℕ, ◌≡◌, ◌⊎◌, inl, inr, ◌+◌, ◌*◌, Bool, true, false, not, ◌&&◌, ◌∙◌, Option, Some, None, refl, sym, ap}
use proofs.Names.{subst, true≢false, ◌==◌, same_Some, if◌then◌else◌, is_some, ◌-◌, wrong', plus_none, LineSet}
use proofs.Names.{changes_phase, is_message_out, is_message_in, is_fault, receiver_in, Row, Change, Connection}
use proofs.Names.{Handshakes, no_handshakes, ScenarioValue, Process, Area, CarriedBytes, is_status_phase, Item, process}
use proofs.Names.{Link, bytes_of_messages, from_byte, plan_anew, Serving, phase_of, phase_leaving, leaving_by}
use proofs.Names.{message_out_leaving, one_if, cause_after, plan_in_message_out, plan_in_phase, Cause, Hearing, Leaving}
use proofs.Names.{Messages, Next, Phase, Plan, progress_in, RunState, bus_of, carried_here, item_of, process_served}
use proofs.Names.{run_state_after, hearing_of, leaving, serving_of, is_data_in, OnMessages, is_in_phase, is_out_phase}
use proofs.Names.{IsRowIn, reading_in, is_status, by_bool, OnUndo, IsPlainIn, run_policy, run_start, run_step}
use proofs.Names.{PointersOf, PointersIf, PointersAsked, IsSettled, IsUnnamed, ServedPointers, unnamed, named}
use proofs.{Instructed.Turns.{out_is}, Pointers.{Kept.{SamePlan, counted_same, pointers_as}, Leavings.{Enters, Leads}}}
use proofs.Pointers.{Leavings.{is_attended, leaves_enter, refusal_leads}, Messages.{refusal_offers}, Rows.{Meets}}
use proofs.Pointers.{Rows.{in_lines, phase_by}, Turns.{refused_from, TurnsBy, start_after, Turned, turned_is}}
use proofs.{Talks.Turns.{from_named}, Tells.Facts.{front_length}}
use Rattle.row_laws.specs.book_laws.proofs.Reactions.{out_lines}

-- ---- lines

status_phase : (b : LineSet) → is_status (phase_of b) ≡ true → is_status_phase b ≡ true
status_phase b e = go b.msg b.cd b.io e
  where
    go : (m d i : Bool) → is_status (phase_by m d i) ≡ true → (not m && d && i) ≡ true
    go true d true z = wrong' z
    go true d false z = wrong' z
    go false true true z = refl
    go false true false z = wrong' z
    go false false true z = wrong' z
    go false false false z = wrong' z

in_cause : (b : LineSet) → (b.msg ≡ true → b.cd ≡ true) → phase_of b ≡ Phase.MessageIn → is_message_in b ≡ true
in_cause b h e = let z = in_lines b e in λ i. z.msg i && (h z.msg) i && z.io i

status_cause : (b : LineSet) → is_status (phase_of b) ≡ true → cause_after b ≡ Cause.InStatus
status_cause b e = go b.msg b.cd b.io e
  where
    go : (m d i : Bool) → is_status (phase_by m d i) ≡ true
        → (if m && d && i then Cause.InMessage else if d then Cause.InStatus else Cause.InData) ≡ Cause.InStatus
    go true d true z = wrong' z
    go true d false z = wrong' z
    go false true true z = refl
    go false true false z = wrong' z
    go false false true z = wrong' z
    go false false false z = wrong' z

data_cause : (b : LineSet) → is_data_in (phase_of b) ≡ true → cause_after b ≡ Cause.InData
data_cause b e = go b.msg b.cd b.io e
  where
    go : (m d i : Bool) → is_data_in (phase_by m d i) ≡ true
        → (if m && d && i then Cause.InMessage else if d then Cause.InStatus else Cause.InData) ≡ Cause.InData
    go true d true z = wrong' z
    go true d false z = wrong' z
    go false true true z = wrong' z
    go false true false z = wrong' z
    go false false true z = refl
    go false false false z = wrong' z

-- ---- the next phase begins

-- The plan as it begins.
abbrev plan_there : Plan → Leaving → Plan
plan_there l x = record (plan_anew l) { messages = x.messages; next = x.next }

plan_to : (w : Hearing) (x : Leaving) (l : Plan) → is_message_out w.change.after ≡ false
    → plan_in_phase w x l ≡ plan_there l x
plan_to w x l e =
    ap (λ (q : Bool). if not q then plan_there l x else if w.begun then plan_in_message_out w l else plan_anew l) e

plan_out : (w : Hearing) (x : Leaving) (l : Plan) → is_message_out w.change.after ≡ true → w.begun ≡ true
    → plan_in_phase w x l ≡ plan_in_message_out w l
plan_out w x l e b = λ i. if not (e i) then plan_there l x else if b i then plan_in_message_out w l else plan_anew l

plan_first : (w : Hearing) (x : Leaving) (l : Plan) → is_message_out w.change.after ≡ true → w.begun ≡ false
    → plan_in_phase w x l ≡ plan_anew l
plan_first w x l e b = λ i. if not (e i) then plan_there l x else if b i then plan_in_message_out w l else plan_anew l

finish : (s : ScenarioValue) (k j : RunState) (row : Row) (n : Connection)
    (c : Change) (q : Process) (l : Link) (a : Plan) (start : ℕ) (phase : Phase)
    → Turned s k j row n c q l → l.item ≡ Some (process q.id) → j.exchange.plan ≡ a → run_start s j q ≡ start
    → phase_of c.after ≡ phase → PointersOf (run_policy s q) l (carried_here j q.id) a no_handshakes start phase
    → ServedPointers s j q
finish s k j row n c q l a start phase t own ep es ee h = named l t.link own
    (subst (λ (x : Bool). PointersIf x (run_policy s q) l (carried_here j q.id) j.exchange.plan j.handshakes
    (run_start s j q) (phase_of (bus_of j))) (sym t.exchange_begun) (subst (λ (x : Phase). PointersOf (run_policy s q) l
    (carried_here j q.id) j.exchange.plan j.handshakes (run_start s j q) x) (sym (ap phase_of t.bus_is ∙ ee)) (subst
    (λ (x : ℕ). PointersOf (run_policy s q) l (carried_here j q.id) j.exchange.plan j.handshakes x phase) (sym es)
    (subst (λ (x : Handshakes). PointersOf (run_policy s q) l (carried_here j q.id) j.exchange.plan x start phase)
    (sym t.handshakes_is) (subst
    (λ (x : Plan). PointersOf (run_policy s q) l (carried_here j q.id) x no_handshakes start phase) (sym ep) h)))))

same_plan : (l : Plan) → SamePlan l l
same_plan l = record { messages = refl; next = refl; cause = refl }

-- What the process carried is the same.
carried_on : (s : ScenarioValue) (k j : RunState) (row : Row) (n : Connection)
    (c : Change) (q : Process) (l : Link) (a : Plan) (start : ℕ) (phase : Phase)
    → Turned s k j row n c q l → PointersOf (run_policy s q) l (carried_here k q.id) a no_handshakes start phase
    → PointersOf (run_policy s q) l (carried_here j q.id) a no_handshakes start phase
carried_on s k j row n c q l a start phase t h = pointers_as (run_policy s q) l (carried_here k q.id)
    (carried_here j q.id) a a no_handshakes no_handshakes start phase t.carried (same_plan a)
    (counted_same phase no_handshakes) h

-- ---- the process is named

enters_phase : (s : ScenarioValue) (k j : RunState) (row : Row) (n : Connection) (c : Change) (q : Process)
    (l : Link) (phase : Phase) → Turned s k j row n c q l → k.exchange.begun ≡ true → l.item ≡ Some (process q.id)
    → (c.after.msg ≡ true → c.after.cd ≡ true) → phase_of c.after ≡ phase → Enters (run_policy s q) l
    (carried_here k q.id) (start_after s k n q) (leaving s k n.target).messages (leaving s k n.target).next (Some phase)
    → ServedPointers s j q
enters_phase s k j row n c q l phase t b own known e h = go phase e h
  where
    to : (y : Phase) → is_out_phase y ≡ false → phase_of c.after ≡ y
        → j.exchange.plan ≡ plan_there k.exchange.plan (leaving s k n.target)
    to y z f = t.plan_is ∙ plan_to (hearing_of k row (reading_in k.story.bus_state n c false))
        (leaving s k n.target) k.exchange.plan (out_is c.after known ∙ ap is_out_phase f ∙ z)

    ends : (y : Phase) → is_out_phase y ≡ false → phase_of c.after ≡ y → PointersOf (run_policy s q) l
        (carried_here j q.id) (plan_there k.exchange.plan (leaving s k n.target)) no_handshakes (start_after s k n q) y
        → ServedPointers s j q
    ends y z f g = finish s k j row n c q l (plan_there k.exchange.plan (leaving s k n.target))
        (start_after s k n q) y t own (to y z f) (t.start b) f g

    on : (y : Phase) → PointersOf (run_policy s q) l (carried_here k q.id)
        (plan_there k.exchange.plan (leaving s k n.target)) no_handshakes (start_after s k n q) y
        → PointersOf (run_policy s q) l (carried_here j q.id)
        (plan_there k.exchange.plan (leaving s k n.target)) no_handshakes (start_after s k n q) y
    on y g =
        carried_on s k j row n c q l (plan_there k.exchange.plan (leaving s k n.target)) (start_after s k n q) y t g

    go : (y : Phase) → phase_of c.after ≡ y → Enters (run_policy s q) l (carried_here k q.id)
        (start_after s k n q) (leaving s k n.target).messages (leaving s k n.target).next (Some y)
        → ServedPointers s j q
    go Phase.Command f g = ends Phase.Command refl f (on Phase.Command g)
    go Phase.DataOut f g = ends Phase.DataOut refl f (on Phase.DataOut g)
    go Phase.DataIn f g = ends Phase.DataIn refl f (on Phase.DataIn g)
    go Phase.Status f g = ends Phase.Status refl f (t.marked own (status_phase c.after (ap is_status f)))
    go Phase.MessageIn f g = ends Phase.MessageIn refl f (on Phase.MessageIn g)
    go Phase.MessageOut f g = absurd g

start_stays : (s : ScenarioValue) (k j : RunState) (n : Connection) (q : Process)
    → run_start s j q ≡ start_after s k n q → (leaving s k n.target).done ≡ false → run_start s j q ≡ run_start s k q
start_stays s k j n q e d = e ∙ ap (λ (b : Bool). ((progress_in k.progress q.id).runs + one_if b) * run_step s q) d
    ∙ ap (λ (x : ℕ). x * run_step s q) (plus_none (progress_in k.progress q.id).runs)

-- ATN is true after bytes to the initiator.
attends_phase : (s : ScenarioValue) (k j : RunState) (row : Row) (n : Connection) (c : Change) (q : Process) (l : Link)
    → Meets s k row n c q → Turned s k j row n c q l → k.exchange.begun ≡ true → l.item ≡ Some (process q.id)
    → (c.after.msg ≡ true → c.after.cd ≡ true) → phase_of c.after ≡ Phase.MessageOut
    → (leaving s k n.target).done ≡ false
    → (phase_of (bus_of k) ≡ Phase.MessageIn → (k.handshakes.requests == 0) ≡ false)
    → (phase : Phase) → phase_of (bus_of k) ≡ phase → is_attended phase ≡ true
    → PointersOf (run_policy s q) l (carried_here k q.id) k.exchange.plan k.handshakes (run_start s k q) phase
    → ServedPointers s j q
attends_phase s k j row n c q l meets t b own known to done asked phase e attended h = go phase e attended h
  where
    w : Hearing
    w = hearing_of k row (reading_in k.story.bus_state n c false)

    r : IsRowIn k row n c
    r = meets.of.row_is

    plan : j.exchange.plan ≡ plan_in_message_out w k.exchange.plan
    plan = t.plan_is ∙ plan_out w (leaving s k n.target) k.exchange.plan (out_is c.after known ∙ ap is_out_phase to) b

    asks : PointersAsked (run_policy s q) l (carried_here k q.id) (plan_in_message_out w k.exchange.plan)
        (run_start s k q) (plan_in_message_out w k.exchange.plan).cause
        → ServedPointers s j q
    asks g = finish s k j row n c q l (plan_in_message_out w k.exchange.plan)
        (run_start s k q) Phase.MessageOut t own plan (start_stays s k j n q (t.start b) done) to
        (carried_on s k j row n c q l (plan_in_message_out w k.exchange.plan) (run_start s k q) Phase.MessageOut t g)

    go : (y : Phase) → phase_of (bus_of k) ≡ y → is_attended y ≡ true
        → PointersOf (run_policy s q) l (carried_here k q.id) k.exchange.plan k.handshakes (run_start s k q) y
        → ServedPointers s j q
    go Phase.MessageIn f z g =
        let now : is_message_in (bus_of k) ≡ true = in_cause (bus_of k) (λ m. (meets.of.phase m).0) f in
        let before : is_message_in c.before ≡ true = ap is_message_in (sym r.bus_is) ∙ now in
        let given = meets.gives.in_message_in b now in
        asks (subst
        (λ (x : Bool). PointersAsked (run_policy s q) l (carried_here k q.id) (record (plan_anew k.exchange.plan) {
          cause =
              if x then Cause.InMessage else if c.before.cd then Cause.InStatus else Cause.InData;
          messages =
              if x then from_byte k.exchange.plan.messages (k.handshakes.requests - 1) else k.exchange.plan.messages;
        }) (run_start s k q) (if x then Cause.InMessage else if c.before.cd then Cause.InStatus else Cause.InData))
        (sym before) (refused_from (run_policy s q) l (carried_here k q.id) k.exchange.plan.messages
        k.exchange.plan.next k.handshakes.requests (run_start s k q) (asked f) (front_length
        (bytes_of_messages k.exchange.plan.messages) k.story.bus_state.dialogue.half k.handshakes.requests given) g))
    go Phase.Status f z g = asks (subst (λ (x : Cause). PointersAsked (run_policy s q) l
        (carried_here k q.id) (plan_in_message_out w k.exchange.plan) (run_start s k q) x)
        (sym (status_cause c.before (ap is_status (ap phase_of (sym r.bus_is) ∙ f)))) g)
    go Phase.DataIn f z g = asks (subst (λ (x : Cause). PointersAsked (run_policy s q) l
        (carried_here k q.id) (plan_in_message_out w k.exchange.plan) (run_start s k q) x)
        (sym (data_cause c.before (ap is_data_in (ap phase_of (sym r.bus_is) ∙ f)))) (g.plain, g.saved))
    go _ f z g = wrong' z

-- What was heard of a refusal names no offer.
no_offer : (s : ScenarioValue) (k : RunState) (row : Row) (n : Connection) (c : Change) (q : Process)
    → Meets s k row n c q → k.exchange.begun ≡ true → changes_phase c ≡ true
    → phase_of (bus_of k) ≡ Phase.MessageOut → k.exchange.plan.cause ≡ Cause.InMessage
    → (k.exchange.plan.next ≡ Next.Command) ⊎ (is_some k.exchange.plan.said.offer ≡ false)
no_offer s k row n c q meets b ep e cause = go (meets.refuses b e cause)
  where
    out : is_message_out (bus_of k) ≡ true
    out = let z = out_lines (bus_of k) e in λ i. z.0 i && ((meets.of.phase z.0).0) i && not (z.1 i)

    last : k.story.bus_state.dialogue.is_last ≡ true
    last = (meets.of.leaves (ap changes_phase meets.of.row_is.change_is ∙ ep)).out e

    go : (k.exchange.plan.next ≡ Next.Command)
        ⊎ (k.exchange.speech.words ≡ Rattle.due_model.specs.dialogue_model.specs.Words.parity_error)
        → (k.exchange.plan.next ≡ Next.Command) ⊎ (is_some k.exchange.plan.said.offer ≡ false)
    go (inl z) = inl z
    go (inr z) = inr (refusal_offers k.exchange.speech k.exchange.plan k.story.bus_state.dialogue z
        (meets.speaks.in_message_out b out).heard last)

named_turns : (s : ScenarioValue) (k : RunState) (row : Row) (n : Connection) (c : Change) (q : Process) (l : Link)
    → Meets s k row n c q → TurnsBy s k n q → Turned s k (run_state_after s k row) row n c q l
    → changes_phase c ≡ true → k.exchange.begun ≡ true → l.item ≡ Some (process q.id)
    → (c.after.msg ≡ true → c.after.cd ≡ true) → (leaving s k n.target).to ≡ Some (phase_of c.after) → PointersOf
    (run_policy s q) l (carried_here k q.id) k.exchange.plan k.handshakes (run_start s k q) (phase_of (bus_of k))
    → ServedPointers s (run_state_after s k row) q
named_turns s k row n c q l meets f t ep b own known to h = go leads
  where
    j : RunState
    j = run_state_after s k row

    v : Serving
    v = serving_of s k n.target

    asked : phase_of (bus_of k) ≡ Phase.MessageIn → (k.handshakes.requests == 0) ≡ false
    asked e = (meets.of.leaves (ap changes_phase meets.of.row_is.change_is ∙ ep)).some e

    answers : phase_of (bus_of k) ≡ Phase.MessageOut → k.exchange.plan.cause ≡ Cause.InMessage
        → is_some k.exchange.plan.said.offer ≡ true → k.exchange.plan.next ≡ Next.Command
    answers e cause some =
        elim (no_offer s k row n c q meets b ep e cause) [ inl z ↦ z | inr z ↦ absurd (true≢false (sym some ∙ z)) ]

    leaving_is : leaving s k n.target ≡ phase_leaving v (bus_of k).atn (phase_of (bus_of k))
    leaving_is = ap (λ (x : Bool). leaving_by v x (bus_of k)) b

    leads : Leads (run_policy s q) l (carried_here k q.id) (progress_in k.progress q.id).runs (run_step s q)
        (phase_of (bus_of k)) (leaving s k n.target)
    leads = subst (λ (x : Leaving). Leads (run_policy s q) l (carried_here k q.id)
        (progress_in k.progress q.id).runs (run_step s q) (phase_of (bus_of k)) x) (sym leaving_is)
        (subst (λ (x : ℕ). Leads (run_policy s q) l (carried_here k q.id) x (run_step s q) (phase_of (bus_of k))
        (phase_leaving v (bus_of k).atn (phase_of (bus_of k)))) f.runs_are (leaves_enter (run_policy s q) l
        (carried_here k q.id) (run_step s q) v k.handshakes f.task (bus_of k).atn (phase_of (bus_of k)) f.moves_by asked
        answers (subst (λ (x : ℕ). PointersOf (run_policy s q) l (carried_here k q.id) k.exchange.plan k.handshakes
        (x * run_step s q) (phase_of (bus_of k))) (sym f.runs_are) h)))

    go : Leads (run_policy s q) l (carried_here k q.id) (progress_in k.progress q.id).runs
        (run_step s q) (phase_of (bus_of k)) (leaving s k n.target)
        → ServedPointers s j q
    go (inl z) = attends_phase s k j row n c q l meets t b own known
        (sym (same_Some Phase.MessageOut (phase_of c.after) (sym z.1 ∙ to))) z.2 asked (phase_of (bus_of k)) refl z.0 h
    go (inr z) = enters_phase s k j row n c q l (phase_of c.after) t b own known refl
        (subst (λ (x : Option Phase). Enters (run_policy s q) l (carried_here k q.id) (start_after s k n q)
        (leaving s k n.target).messages (leaving s k n.target).next x) to z)

-- The first phase after a selection.
first_turns : (s : ScenarioValue) (k : RunState) (row : Row) (n : Connection) (c : Change) (q : Process) (l : Link)
    → Meets s k row n c q → Turned s k (run_state_after s k row) row n c q l → changes_phase c ≡ true
    → k.exchange.begun ≡ false → l.item ≡ Some (process q.id) → (c.after.msg ≡ true → c.after.cd ≡ true)
    → IsSettled l (carried_here k q.id) (run_start s k q) → ServedPointers s (run_state_after s k row) q
first_turns s k row n c q l meets t ep b own known h =
    let j = run_state_after s k row in
    let w = hearing_of k row (reading_in k.story.bus_state n c false) in
    let out : is_message_out c.after ≡ true =
    sym (ap (λ (x : Change). is_message_out x.after) meets.of.row_is.change_is)
    ∙ meets.of.first (ap changes_phase meets.of.row_is.change_is ∙ ep) b in
    let plan = t.plan_is ∙ plan_first w (leaving s k n.target) k.exchange.plan out b in
    finish s k j row n c q l (plan_anew k.exchange.plan) (run_start s k q) Phase.MessageOut t own plan
    (t.start_first b) (is_out_phase_of c.after out) (carried_on s k j row n c q l (plan_anew k.exchange.plan)
    (run_start s k q) Phase.MessageOut t (subst (λ (x : Cause). PointersAsked (run_policy s q) l (carried_here k q.id)
    (plan_anew k.exchange.plan) (run_start s k q) x) (sym (meets.speaks.before_all b).cause_is) h))
  where
    is_out_phase_of : (x : LineSet) → is_message_out x ≡ true → phase_of x ≡ Phase.MessageOut
    is_out_phase_of x e = go x.msg x.cd x.io e
      where
        go : (m d i : Bool) → (m && d && not i) ≡ true → phase_by m d i ≡ Phase.MessageOut
        go true true true z = wrong' z
        go true true false z = refl
        go true false i z = wrong' z
        go false d i z = wrong' z

-- ---- the process is not named yet

unnamed_turns : (s : ScenarioValue) (k : RunState) (row : Row) (n : Connection) (c : Change) (q : Process) (l : Link)
    → Meets s k row n c q → Turned s k (run_state_after s k row) row n c q l
    → changes_phase c ≡ true → k.story.link ≡ Some l → l.item ≡ None
    → (c.after.msg ≡ true → c.after.cd ≡ true) → (leaving s k n.target).to ≡ Some (phase_of c.after)
    → IsUnnamed (run_policy s q) l (carried_here k q.id) k.exchange (bus_of k) (run_start s k q)
    → ServedPointers s (run_state_after s k row) q
unnamed_turns s k row n c q l meets t ep el none known to h = go h.phase
  where
    j : RunState
    j = run_state_after s k row

    w : Hearing
    w = hearing_of k row (reading_in k.story.bus_state n c false)

    b : k.exchange.begun ≡ true
    b = h.begun

    leaving_is : (x : Phase) → phase_of (bus_of k) ≡ x
        → leaving s k n.target ≡ phase_leaving (serving_of s k n.target) (bus_of k).atn x
    leaving_is x e = ap (λ (y : Bool). leaving_by (serving_of s k n.target) y (bus_of k)) b
        ∙ ap (λ (y : Phase). phase_leaving (serving_of s k n.target) (bus_of k).atn y) e

    made : (a : Plan) → j.exchange.plan ≡ a → run_start s j q ≡ run_start s k q
        → a.next ≡ Next.GoOn → OnMessages IsPlainIn a.messages
        → (phase_of c.after ≡ Phase.MessageIn) ⊎ ((phase_of c.after ≡ Phase.MessageOut) × (a.cause ≡ Cause.InMessage))
        → ServedPointers s j q
    made a e start next plain phase = unnamed l t.link none (record {
      begun = t.exchange_begun;
      undone = subst (λ (x : ℕ). OnUndo (λ (u : CarriedBytes). u.moved.saved ≡ x) l.undo) (sym start) h.undone;
      undisturbed = h.undisturbed;
      next = ap (λ (x : Plan). x.next) e ∙ next;
      plain = subst (λ (x : Plan). OnMessages IsPlainIn x.messages) (sym e) plain;
      saved = ap (λ (x : Area). x.saved) t.carried.moved ∙ h.saved ∙ sym start;
      phase = there phase;
    })
      where
        there :
            (phase_of c.after ≡ Phase.MessageIn) ⊎ ((phase_of c.after ≡ Phase.MessageOut) × (a.cause ≡ Cause.InMessage))
            → (phase_of (bus_of j) ≡ Phase.MessageIn)
            ⊎ ((phase_of (bus_of j) ≡ Phase.MessageOut) × (j.exchange.plan.cause ≡ Cause.InMessage))
        there (inl z) = inl (ap phase_of t.bus_is ∙ z)
        there (inr z) = inr (ap phase_of t.bus_is ∙ z.0, ap (λ (x : Plan). x.cause) e ∙ z.1)

    is_none : is_some (item_of k.story.link) ≡ false
    is_none = ap (λ (x : Option Link). is_some (item_of x)) el ∙ ap (λ (x : Option Item). is_some x) none

    again : n.reselected ≡ true
    again = by meets.knows.item_is
      where
        same : meets.knows.link ≡ l
        same = some_link meets.knows.link l (sym meets.knows.link_is ∙ el)
          where
            some_link : (x y : Link) → (let o : Option Link = Some x in o) ≡ Some y → x ≡ y
            some_link x y e = cc

        by : (meets.knows.link.item ≡ k.served) ⊎ ((n.reselected ≡ true) × (meets.knows.link.item ≡ None))
            → n.reselected ≡ true
        by (inl z) = none_served (sym none ∙ ap (λ (x : Link). x.item) (sym same) ∙ z ∙ meets.served)
          where
            none_served : (let o : Option Item = None in o) ≡ Some (process q.id) → n.reselected ≡ true
            none_served e = absurd cc
        by (inr z) = z.0

    -- a name was heard before MESSAGE IN is left with ATN false
    attention : phase_of (bus_of k) ≡ Phase.MessageIn → (bus_of k).atn ≡ true
    attention e = by_bool (bus_of k).atn (λ f. f)
        (λ f. let heard = (meets.of.leaves (ap changes_phase meets.of.row_is.change_is ∙ ep)).named again
        (ap is_out_phase e) ((λ i. is_in_phase (e i) && f i)) in absurd (true≢false (sym heard ∙ is_none)))

    go : (phase_of (bus_of k) ≡ Phase.MessageIn)
        ⊎ ((phase_of (bus_of k) ≡ Phase.MessageOut) × (k.exchange.plan.cause ≡ Cause.InMessage))
        → ServedPointers s j q
    go (inl e) =
        let leads : leaving s k n.target
        ≡ Rattle.due_model.specs.dialogue_model.specs.NextPhase.phase_entry Phase.MessageOut =
        leaving_is Phase.MessageIn e
        ∙ ap (λ (x : Bool). if x then Rattle.due_model.specs.dialogue_model.specs.NextPhase.phase_entry Phase.MessageOut
        else Rattle.due_model.specs.dialogue_model.specs.NextPhase.after_messages
        (serving_of s k n.target) k.exchange.plan.next) (attention e) in
        let out : phase_of c.after ≡ Phase.MessageOut = sym
        (same_Some Phase.MessageOut (phase_of c.after) (sym (ap (λ (x : Leaving). x.to) leads) ∙ to)) in
        let before : is_message_in c.before ≡ true = ap is_message_in (sym meets.of.row_is.bus_is)
        ∙ in_cause (bus_of k) (λ m. (meets.of.phase m).0) e in
        made (plan_in_message_out w k.exchange.plan)
        (t.plan_is ∙ plan_out w (leaving s k n.target) k.exchange.plan (out_is c.after known ∙ ap is_out_phase out) b)
        (start_stays s k j n q (t.start b) (ap (λ (x : Leaving). x.done) leads)) h.next
        (subst (λ (x : Bool). OnMessages IsPlainIn
        (if x then from_byte k.exchange.plan.messages (k.handshakes.requests - 1) else k.exchange.plan.messages))
        (sym before) (from_named IsPlainIn k.exchange.plan.messages (k.handshakes.requests - 1) h.plain)) (inr (
          out,
          ap (λ (x : Bool). if x then Cause.InMessage else if c.before.cd then Cause.InStatus else Cause.InData) before,
        ))
    go (inr e) = by (no_offer s k row n c q meets b ep e.0 e.1)
      where
        by : (k.exchange.plan.next ≡ Next.Command) ⊎ (is_some k.exchange.plan.said.offer ≡ false) → ServedPointers s j q
        by (inl z) = let bad : Next.GoOn ≡ Next.Command = sym h.next ∙ z in absurd cc
        by (inr z) =
            let leads : leaving s k n.target ≡ message_out_leaving (serving_of s k n.target) Cause.InMessage =
            leaving_is Phase.MessageOut e.0 ∙ ap (λ (x : Cause). message_out_leaving (serving_of s k n.target) x) e.1 in
            let m = refusal_leads (serving_of s k n.target) (phase_of c.after) z
            (ap (λ (x : Leaving). x.to) (sym leads) ∙ to) in
            made (plan_there k.exchange.plan (leaving s k n.target)) (t.plan_is
            ∙ plan_to w (leaving s k n.target) k.exchange.plan (out_is c.after known ∙ ap is_out_phase m.phase_is))
            (start_stays s k j n q (t.start b) (ap (λ (x : Leaving). x.done) leads ∙ m.done))
            (ap (λ (x : Leaving). x.next) leads ∙ m.next ∙ h.next) (subst (λ (x : Messages). OnMessages IsPlainIn x)
            (sym (ap (λ (x : Leaving). x.messages) leads ∙ m.messages)) h.plain) (inl m.phase_is)

-- ---- any row that changes the phase

pub turns_served : (s : ScenarioValue) (k : RunState) (row : Row) (n : Connection) (c : Change) (q : Process)
    → Meets s k row n c q → process_served s k ≡ Some q
    → (k.exchange.begun ≡ true → TurnsBy s k n q) → changes_phase c ≡ true
    → receiver_in n c ≡ None → is_fault row.kind ≡ false → (c.after.msg ≡ true → c.after.cd ≡ true)
    → (k.exchange.begun ≡ true → (leaving s k n.target).to ≡ Some (phase_of c.after)) → ServedPointers s k q
    → ServedPointers s (run_state_after s k row) q
turns_served s k row n c q meets served f ep er ef known to h = go h
  where
    turned : (l : Link) → k.story.link ≡ Some l → Turned s k (run_state_after s k row) row n c q l
    turned l el = turned_is s k row n c q l meets.of.row_is served ep er ef el

    go : ServedPointers s k q → ServedPointers s (run_state_after s k row) q
    go (unnamed l el none e) = unnamed_turns s k row n c q l meets (turned l el) ep el none known (to e.begun) e
    go (named l el own e) = by k.exchange.begun refl e
      where
        by : (b : Bool) → k.exchange.begun ≡ b → PointersIf b (run_policy s q) l
            (carried_here k q.id) k.exchange.plan k.handshakes (run_start s k q) (phase_of (bus_of k))
            → ServedPointers s (run_state_after s k row) q
        by true b e = named_turns s k row n c q l meets (f b) (turned l el) ep b own known (to b) e
        by false b e = first_turns s k row n c q l meets (turned l el) ep b own known e
