-- As COMMAND is left the command arrives or is refused, or fails where a byte was struck; with STATUS its reply is
-- shown (6.1.6, 6.6.19, 7.8).
use Rattle.trace_laws.proofs
use proofs.Names.{inl, inr, ℕ, ◌≡◌, ◌⊎◌, Bool, true, false, not, ◌&&◌, ◌∙◌, List, [], ◌∷◌, Option, Some, None, refl}
use proofs.Names.{sym, ap, subst, same_Some, list_any, if◌then◌else◌, is_some, wrong, wrong', Event, ProcId}
use proofs.Names.{ScenarioValue, Policy, array_step, array_after, Process, Array, is_refuse, status_event, queue_event}
use proofs.Names.{Serving, phase_leaving, Arrival, Leaving, Next, Phase, is_refusal, none_some, is_status, by_bool}
use proofs.Names.{by_option, IsUntouched, IsAtRest, RunsOpen, AnsweredOpen, PlacedBefore, disconnects}
use proofs.Places.Events.{Passes, passes_on, Turned, turned_fails, turned_none, ArrivesAs, plan_for, accepts}
use proofs.Places.{Events.{refusal_planned, refused_so}, Leavings.{LeadsRunning, LeavesStruck, restores, fails, frees}}
use proofs.Places.{Leavings.{from_struck_command, ArrivedTo, from_command}, Turns.{Standing, PlacedNext, none_shown}}
use proofs.Places.Turns.{running_turn}
use Rattle.due_model.specs.array_model.specs.Steps

-- ---- the events

abbrev pub with_reply : ProcId → Option ℕ → Phase → List Event → List Event
with_reply id failure phase arrived =
    if is_status phase && not (list_any (λ e. is_refuse e) arrived) then status_event id failure ∷ arrived else arrived

abbrev pub command_shown : ScenarioValue → List Event → ProcId → Option ℕ → Bool → Phase → List Event
command_shown s history id failure whole phase =
    with_reply id failure phase (if whole then queue_event s history id ∷ [] else [])

-- What follows an event of it.
after_one : (s : ScenarioValue) (a b : Array) (event : Event) (id : ProcId) (q : Bool) (e : Event) (f : Array → Type 0)
    → Steps.step s event a ≡ Some b → Passes s a b id → Turned s b id (if q then e ∷ [] else []) f
    → Turned s a id (if q then e ∷ event ∷ [] else event ∷ []) f
after_one s a b event id true e f h g t = record {
  next = t.next;
  next_is = ap (array_step s e) h ∙ t.next_is;
  passes = passes_on s a b t.next id g t.passes;
  holds = t.holds;
}
after_one s a b event id false e f h g t =
    record { next = t.next; next_is = h ∙ t.next_is; passes = passes_on s a b t.next id g t.passes; holds = t.holds }

abbrev Turns : ScenarioValue → Array → Process → List Event → Leaving → Phase → Type 0
Turns s a c shown l phase = Turned s a c.id shown (λ b. PlacedNext b c l ⊥ phase)

-- ---- a byte was struck

is_code : (failure : Option ℕ) → is_some failure ≡ true → (code : ℕ) × (failure ≡ Some code)
is_code None e = wrong' e
is_code (Some code) e = (code, refl)

struck_turn : (s : ScenarioValue) (a : Array) (t : Process) (v : Serving) (atn : Bool)
    (history : List Event) (failure : Option ℕ) (phase : Phase) → Standing s a t → IsUntouched a t.id
    → v.plan.struck ≡ true → is_some failure ≡ true → (phase_leaving v atn Phase.Command).to ≡ Some phase
    → Turns s a t (command_shown s history t.id failure false phase) (phase_leaving v atn Phase.Command) phase
struck_turn s a t v atn history failure phase st h struck code to = go (from_struck_command v atn struck)
  where
    l : Leaving
    l = phase_leaving v atn Phase.Command

    go : LeavesStruck l → Turns s a t (command_shown s history t.id failure false phase) l phase
    go (restores e f) =
        let is : Phase.MessageIn ≡ phase = same_Some Phase.MessageIn phase (sym e ∙ to) in
        subst (λ (x : Phase). Turns s a t (command_shown s history t.id failure false x) l x) is (none_shown s a t
        (λ b. PlacedBefore b t l.messages l.next) st (subst (λ (x : Next). PlacedBefore a t l.messages x) (sym f) h))
    go (fails e) =
        let is : Phase.Status ≡ phase = same_Some Phase.Status phase (sym e ∙ to) in
        let c = is_code failure code in
        subst (λ (x : Phase). Turns s a t (command_shown s history t.id failure false x) l x) is
        (subst (λ (x : Option ℕ). Turned s a t.id (status_event t.id x ∷ []) (λ b. AnsweredOpen b t.id)) (sym c.1)
        (turned_fails s a t c.0 st.seats st.sound st.within st.process_is h))
    go (frees e) = none_some phase (sym e ∙ to)

-- ---- it arrives

running_arrived :
    (s : ScenarioValue) (a b : Array) (c : Process) (failure : Option ℕ) (l : Leaving) (outside : Bool) (phase : Phase)
    → Standing s a c → Passes s a b c.id → Steps.step s (Event.Accept c.id) a ≡ Some b
    → RunsOpen b c → (outside ≡ false → IsAtRest b c.id) → LeadsRunning outside l → l.to ≡ Some phase
    → (phase ≡ Phase.MessageOut → ⊥) → Turns s a c (with_reply c.id failure phase (Event.Accept c.id ∷ [])) l phase
running_arrived s a b c failure l outside phase st passes e h rest lead to out = after_one s a b
    (Event.Accept c.id) c.id (is_status phase && true) (status_event c.id failure)
    (λ x. PlacedNext x c l ⊥ phase) e passes (running_turn s b c failure false l (λ x. ⊥) outside phase (record {
      seats = st.seats;
      sound = passes.sound;
      within = passes.within;
      process_is = st.process_is;
    }) h rest lead to refl out)

arrived_turn : (s : ScenarioValue) (a b : Array) (c : Process) (policy : Policy)
    (failure : Option ℕ) (l : Leaving) (phase : Phase) (arrival : Arrival)
    → Standing s a c → Passes s a b c.id → Steps.step s (Event.Accept c.id) a ≡ Some b
    → is_refusal arrival ≡ false → ArrivesAs b c arrival → ArrivedTo arrival l → l.to ≡ Some phase
    → (phase ≡ Phase.MessageOut → ⊥) → Turns s a c (with_reply c.id failure phase (Event.Accept c.id ∷ [])) l phase
arrived_turn s a b c policy failure l phase Arrival.Refused st passes e planned h lead to out = wrong planned
arrived_turn s a b c policy failure l phase Arrival.Guest st passes e planned h lead to out =
    running_arrived s a b c failure l true phase st passes e h (λ z. wrong z) lead to out
arrived_turn s a b c policy failure l phase Arrival.AtOnce st passes e planned h lead to out =
    running_arrived s a b c failure l false phase st passes e h.0 (λ z. h.1) lead to out
arrived_turn s a b c policy failure l phase Arrival.Queued st passes e planned h lead to out =
    let is : Phase.MessageIn ≡ phase = same_Some Phase.MessageIn phase (sym lead.0 ∙ to) in
    subst (λ (x : Phase). Turns s a c (with_reply c.id failure x (Event.Accept c.id ∷ [])) l x) is (after_one s a b
    (Event.Accept c.id) c.id false (status_event c.id failure) (λ x. PlacedBefore x c l.messages l.next) e passes
    (turned_none s b c.id (λ x. PlacedBefore x c l.messages l.next) passes.sound passes.within
    (subst (λ (x : Next). PlacedBefore b c l.messages x) (sym lead.1) (disconnects lead.2 h.0 h.1 h.2))))

-- ---- no byte was struck

whole_turn : (s : ScenarioValue) (a : Array) (c : Process) (v : Serving) (atn : Bool) (policy : Policy)
    (history : List Event) (failure : Option ℕ) (phase : Phase) → Standing s a c → IsUntouched a c.id
    → v.plan.struck ≡ false → (v.task ≡ None → ⊥) → v.arrival ≡ plan_for policy a c → array_after s history ≡ Some a
    → (phase_leaving v atn Phase.Command).to ≡ Some phase → (phase ≡ Phase.MessageOut → ⊥)
    → Turns s a c (command_shown s history c.id failure true phase) (phase_leaving v atn Phase.Command) phase
whole_turn s a c v atn policy history failure phase st h struck task planned hist to out = by_option
    (Steps.step s (Event.Accept c.id) a) (λ e. let is : Phase.Status ≡ phase = same_Some Phase.Status phase
    (sym (leads Arrival.Refused (refusal_planned s a c policy st.process_is e)) ∙ to) in shown (Event.Refuse c.id)
    (queue_is None e) (subst (λ (x : Phase). Turns s a c (with_reply c.id failure x (Event.Refuse c.id ∷ [])) l x) is
    (refused_so s a c st.seats st.sound st.within st.process_is h e)))
    (λ b e. let k = accepts s a b c policy st.seats st.sound st.within st.process_is h e in
    shown (Event.Accept c.id) (queue_is (Some b) e) (arrived_turn s a b c policy failure l phase
    (plan_for policy a c) st k.passes e k.planned k.arrived (leads (plan_for policy a c) refl) to out))
  where
    l : Leaving
    l = phase_leaving v atn Phase.Command

    leads : (x : Arrival) → plan_for policy a c ≡ x → ArrivedTo x l
    leads x e = by (from_command v atn struck)
      where
        by : (v.task ≡ None) ⊎ ArrivedTo v.arrival l → ArrivedTo x l
        by (inl z) = absurd (task z)
        by (inr z) = subst (λ (y : Arrival). ArrivedTo y l) (planned ∙ e) z

    queue_is : (x : Option Array) → Steps.step s (Event.Accept c.id) a ≡ x
        → queue_event s history c.id ≡ (if is_some x then Event.Accept c.id else Event.Refuse c.id)
    queue_is x e =
        (λ i. if is_some (array_step s (Event.Accept c.id) (hist i)) then Event.Accept c.id else Event.Refuse c.id)
        ∙ ap (λ (y : Option Array). if is_some y then Event.Accept c.id else Event.Refuse c.id) e

    shown : (event : Event) → queue_event s history c.id ≡ event
        → Turns s a c (with_reply c.id failure phase (event ∷ [])) l phase
        → Turns s a c (command_shown s history c.id failure true phase) l phase
    shown event e t = subst (λ (x : Event). Turns s a c (with_reply c.id failure phase (x ∷ [])) l phase) (sym e) t

-- What is asked as COMMAND is left.
pub record IsCommandLeft (s : ScenarioValue) (a : Array) (c : Process) (v : Serving) (history : List Event)
    (failure : Option ℕ) (whole : Bool) : Type 0 where
  pub policy : Policy
  pub planned : v.arrival ≡ plan_for policy a c
  pub task : v.task ≡ None → ⊥
  pub history_is : array_after s history ≡ Some a
  pub whole_is : whole ≡ not v.plan.struck
  pub code : v.plan.struck ≡ true → is_some failure ≡ true

pub command_turns : (s : ScenarioValue) (a : Array) (c : Process) (v : Serving)
    (atn : Bool) (history : List Event) (failure : Option ℕ) (whole : Bool) (phase : Phase)
    → Standing s a c → IsUntouched a c.id → IsCommandLeft s a c v history failure whole
    → (phase_leaving v atn Phase.Command).to ≡ Some phase → (phase ≡ Phase.MessageOut → ⊥)
    → Turns s a c (command_shown s history c.id failure whole phase) (phase_leaving v atn Phase.Command) phase
command_turns s a c v atn history failure whole phase st h left to out = by_bool v.plan.struck (λ e. subst
    (λ (x : Bool). Turns s a c (command_shown s history c.id failure x phase) (phase_leaving v atn Phase.Command) phase)
    (sym (left.whole_is ∙ ap not e)) (struck_turn s a c v atn history failure phase st h e (left.code e) to))
    (λ e. subst (λ (x : Bool). Turns s a c (command_shown s history c.id failure x phase)
    (phase_leaving v atn Phase.Command) phase) (sym (left.whole_is ∙ ap not e))
    (whole_turn s a c v atn left.policy history failure phase st h e left.task left.planned left.history_is to out))
