-- While the target does not know the command after a selection, STATUS begins only with a failure, or with an answer
-- that was given.
use Rattle.trace_laws.proofs
use proofs.Names.{ℕ, ◌≡◌, Bool, true, false, not, ◌&&◌, ◌∙◌, List, [], ◌∷◌, Option, Some, None, refl, sym, ap, or_from}
use proofs.Names.{not-false, list_any, if◌then◌else◌, is_some, wrong, wrong', Event, ProcId, is_command, Change}
use proofs.Names.{ScenarioValue, array_after, CarriedBytes, is_status_phase, is_whole_block, is_refuse, phase_events}
use proofs.Names.{queue_event, queue_events, status_event, Story, task_not, recovery_not, is_status_next, Serving}
use proofs.Names.{after_messages, bus_free, leaving_by, message_out_leaving, phase_leaving, phase_of}
use proofs.Names.{pointer_restoration, unless_attention, Cause, Next, Phase, RunState, bus_of, carried_here, leaving}
use proofs.Names.{serving_of, GiveNoGood, gives_no_good, known_after, opening_leads, KnownFor, KnownIn, KnownNext}
use proofs.Names.{LeftAnswered}
use Rattle.story_laws.proofs.Tells.Turns.{refused}

-- ---- any phase

pub fails_first : (s : ScenarioValue) (k : RunState) (dev : ℕ) (id : ProcId)
    → k.exchange.begun ≡ true → KnownIn false k.exchange.plan (phase_of (bus_of k))
    → known_after false k.exchange.plan.struck (phase_of (bus_of k)) ≡ false → LeftAnswered k id
    → is_status_next (leaving s k dev).to ≡ true → (carried_here k id).shown ≡ false
    → (carried_here k id).refused ≡ false → is_some (carried_here k id).failure ≡ true
fails_first s k dev id b known after left to shown refused_is = go (phase_of (bus_of k)) refl known after
    (sym (ap (λ (q : Bool). is_status_next (leaving_by v q (bus_of k)).to) b) ∙ to)
  where
    v : Serving
    v = serving_of s k dev

    from_out : (cause : Cause) → KnownFor false k.exchange.plan.next cause
        → is_status_next (message_out_leaving v cause).to ≡ true → is_some (carried_here k id).failure ≡ true
    from_out Cause.Selected h z = wrong (sym z ∙ opening_leads v)
    from_out Cause.InMessage h z = wrong (sym z ∙ refused v)
    from_out Cause.InData h z = wrong' h
    from_out Cause.InStatus h z =
        wrong (sym z ∙ task_not v.task _
        (λ t. recovery_not v.def t (pointer_restoration Next.Status) bus_free refl refl))

    from_in : phase_of (bus_of k) ≡ Phase.MessageIn → (atn : Bool) → (bus_of k).atn ≡ atn
        → (next : Next) → k.exchange.plan.next ≡ next → KnownNext false next
        → is_status_next (unless_attention atn (after_messages v next)).to ≡ true
        → is_some (carried_here k id).failure ≡ true
    from_in e true f next g h z = wrong' z
    from_in e false f Next.Command g h z = wrong' z
    from_in e false f Next.FreeBus g h z = wrong' z
    from_in e false f Next.GoOn g h z = wrong' h
    from_in e false f Next.Status g h z = wrong
        (sym (left.message e f g) ∙ or_from (carried_here k id).shown (carried_here k id).refused shown refused_is)

    ends : (atn : Bool)
        → is_status_next (unless_attention atn (Rattle.due_model.specs.dialogue_model.specs.NextPhase.disconnection
        (Rattle.due_model.specs.dialogue_model.specs.Exchange.one_message
        Rattle.due_model.specs.msg_grammar.specs.declared.message.MsgIn.TheVariants.CommandComplete))).to ≡ false
    ends true = refl
    ends false = refl

    go : (x : Phase) → phase_of (bus_of k) ≡ x → KnownIn false k.exchange.plan x
        → known_after false k.exchange.plan.struck x ≡ false
        → is_status_next (phase_leaving v (bus_of k).atn x).to ≡ true → is_some (carried_here k id).failure ≡ true
    go Phase.MessageOut e h a z = from_out k.exchange.plan.cause h z
    go Phase.MessageIn e h a z = from_in e (bus_of k).atn refl k.exchange.plan.next refl h z
    go Phase.Command e h a z = left.command e (not-false k.exchange.plan.struck a)
    go Phase.DataIn e h a z = wrong' h
    go Phase.DataOut e h a z = wrong' h
    go Phase.Status e h a z = wrong (sym z ∙ ends (bus_of k).atn)

-- ---- so no reply of status GOOD is given

arrives : (s : ScenarioValue) (b : Story) (id : ProcId) → gives_no_good (queue_event s b.history id) ≡ true
arrives s b id = go (is_some (array_after s (Event.Accept id ∷ b.history)))
  where
    go : (q : Bool) → gives_no_good (if q then Event.Accept id else Event.Refuse id) ≡ true
    go true = refl
    go false = refl

no_failure : {A : Type 0} → (let o : Option ℕ = None in is_some o) ≡ true → A
no_failure e = absurd cc

pub turn_gives : (s : ScenarioValue) (b : Story) (c : CarriedBytes) (g : Change)
    → (is_status_phase g.after ≡ true → c.shown ≡ false → c.refused ≡ false → is_some c.failure ≡ true)
    → GiveNoGood (phase_events s b (Some c) g)
turn_gives s b c g h = last (is_status_phase g.after) c.shown c.refused
    (list_any (λ e. is_refuse e) (queue_events s b (Some c) g.before)) h (queue_events s b (Some c) g.before)
    (first (is_command g.before && is_whole_block c))
  where
    first : (q : Bool) → GiveNoGood (if q then queue_event s b.history c.id ∷ [] else [])
    first true = (arrives s b c.id, tt)
    first false = tt

    answer : (failure : Option ℕ) → is_some failure ≡ true → gives_no_good (status_event c.id failure) ≡ true
    answer None e = no_failure e
    answer (Some code) e = refl

    last : (x y z r : Bool) → (x ≡ true → y ≡ false → z ≡ false → is_some c.failure ≡ true)
        → (arrived : List Event) → GiveNoGood arrived
        → GiveNoGood (if x && not y && not z && not r then status_event c.id c.failure ∷ arrived else arrived)
    last false y z r f arrived w = w
    last true true z r f arrived w = w
    last true false true r f arrived w = w
    last true false false true f arrived w = w
    last true false false false f arrived w = (answer c.failure (f refl refl refl), w)
