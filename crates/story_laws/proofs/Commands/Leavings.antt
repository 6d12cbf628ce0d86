-- How a phase is left, by what counts of COMMAND: to COMMAND where nothing of it is taken, to data where none or all of
-- it counts.
use Rattle.story_laws.proofs
use proofs.Names.{ℕ, ◌≡◌, Bool, true, false, ◌==◌, ◌∙◌, Option, Some, None, refl, sym, ap, subst, ⊤, is_some, Agreement}
use proofs.Names.{Connection, has_group_len, MsgIn, CommandBytes, is_none_or_all, ScenarioValue, one_message}
use proofs.Names.{phase_leaving, parity_error, Cause, Leaving, Messages, Next, Phase, RunState, carried_here}
use proofs.Names.{serving_at, none_or_all, IsNoneOrAll, dialogue_of, Serves, IsUntaken, IsBeforeCommand, opens_given}
use proofs.Names.{restores_given, opens_answered, restores_refused, restores_answered, GivesFor, AnswersFor, SaysFor}
use proofs.Names.{StandsIn, GivesOn, RejectsOn}
use Rattle.row_laws.specs.link_laws.proofs.LeavingWays as ways

-- COMMAND may come.
pub record IsReady (s : ScenarioValue) (k : RunState) (n : Connection) : Type 0 where
  pub serves : Serves s k
  pub selected : n.reselected ≡ false
  pub untaken : IsUntaken k

pub data BeginsBefore (k : RunState) (n : Connection) (m : Messages) : Type 0 where
  by_opening : IsBeforeCommand k n → BeginsBefore k n m
  by_restoring : n.reselected ≡ false → m ≡ one_message MsgIn.RestorePointers → BeginsBefore k n m

abbrev pub LeadsIn : ScenarioValue → RunState → Connection → Messages → Next → Type 0
LeadsIn s k n m Next.Command = Serves s k × BeginsBefore k n m
LeadsIn s k n m Next.GoOn = IsNoneOrAll (dialogue_of k).heard.now.command
LeadsIn s k n m Next.Status = ⊤
LeadsIn s k n m Next.FreeBus = ⊤

abbrev pub LeadsTo : ScenarioValue → RunState → Connection → Next → Messages → Option Phase → Type 0
LeadsTo s k n next m None = ⊤
LeadsTo s k n next m (Some Phase.MessageOut) = ⊤
LeadsTo s k n next m (Some Phase.MessageIn) = LeadsIn s k n m next
LeadsTo s k n next m (Some Phase.Command) = IsReady s k n
LeadsTo s k n next m (Some Phase.DataIn) = IsNoneOrAll (dialogue_of k).heard.now.command
LeadsTo s k n next m (Some Phase.DataOut) = IsNoneOrAll (dialogue_of k).heard.now.command
LeadsTo s k n next m (Some Phase.Status) = ⊤

abbrev pub Leads : ScenarioValue → RunState → Connection → Leaving → Type 0
Leads s k n l = LeadsTo s k n l.next l.messages l.to

ready : (s : ScenarioValue) (k : RunState) (n : Connection) → Serves s k → IsBeforeCommand k n → IsReady s k n
ready s k n v h =
    record { serves = v; selected = h.selected; untaken = record { counts = h.heard.now; block = h.block } }

-- ---- MESSAGE OUT

-- Refused messages are said again.
repeats : (s : ScenarioValue) (k : RunState) (n : Connection) (next : Next) → AnswersFor s k n next
    → LeadsIn s k n k.exchange.plan.messages next
repeats s k n Next.Command (v, opens_answered h) = (v, by_opening h)
repeats s k n Next.Command (v, restores_refused r w) = (v, by_restoring r.selected r.messages_are)
repeats s k n Next.Command (v, restores_answered r u p h a w) = (v, by_restoring r.selected r.messages_are)
repeats s k n Next.GoOn h = h.heard.now
repeats s k n Next.Status h = tt
repeats s k n Next.FreeBus h = tt

no_offer : {A : Type 0} (o : Option Agreement) → is_some o ≡ true → o ≡ None → A
no_offer o e f = absurd (none (sym (ap (λ (x : Option Agreement). is_some x) f) ∙ e))
  where
    none : false ≡ true → ⊥
    none z = cc

-- After an answer nothing of the command is taken.
answered : (s : ScenarioValue) (k : RunState) (n : Connection) (next : Next)
    → (k.exchange.speech.words ≡ parity_error → k.exchange.plan.said.offer ≡ None)
    → is_some k.exchange.plan.said.offer ≡ true → AnswersFor s k n next → IsReady s k n
answered s k n Next.Command none e (v, opens_answered h) = ready s k n v h
answered s k n Next.Command none e (v, restores_refused r w) = no_offer k.exchange.plan.said.offer e (none w)
answered s k n Next.Command none e (v, restores_answered r u p h a w) =
    record { serves = v; selected = r.selected; untaken = u }
answered s k n Next.GoOn none e h = no_offer k.exchange.plan.said.offer e (none h.words_are)
answered s k n Next.Status none e w = no_offer k.exchange.plan.said.offer e (none w)
answered s k n Next.FreeBus none e w = no_offer k.exchange.plan.said.offer e (none w)

-- What the target has heard as it leaves MESSAGE OUT.
pub record HasHeardAll (s : ScenarioValue) (k : RunState) : Type 0 where
  pub serves : k.exchange.plan.cause ≡ Cause.Selected → is_some k.exchange.plan.said.aborts ≡ false → Serves s k
  pub refusal : k.exchange.speech.words ≡ parity_error → k.exchange.plan.said.offer ≡ None

-- ---- any phase

pub record IsLeft (s : ScenarioValue) (k : RunState) (phase : Phase) : Type 0 where
  pub out : phase ≡ Phase.MessageOut → HasHeardAll s k
  pub some : phase ≡ Phase.MessageIn → (k.handshakes.requests == 0) ≡ false
  pub whole : phase ≡ Phase.Command → (v : Serves s k) → k.exchange.plan.struck ≡ false
      → has_group_len (carried_here k v.id).block ≡ true

opened : (s : ScenarioValue) (k : RunState) (n : Connection) (dev : ℕ) (at : Phase)
    → ways.IsOpened (serving_at s k dev at) → IsLeft s k Phase.MessageOut → SaysFor s k n k.exchange.plan.cause
    → Serves s k × IsBeforeCommand k n
opened s k n dev at o left h = ((left.out refl).serves o.cause o.none, subst (SaysFor s k n) o.cause h)

asks : (s : ScenarioValue) (k : RunState) (n : Connection) (m : Messages) → Serves s k × IsBeforeCommand k n
    → LeadsIn s k n m Next.Command
asks s k n m (v, h) = (v, by_opening h)

given : (s : ScenarioValue) (k : RunState) (n : Connection) → (k.handshakes.requests == 0) ≡ false
    → GivesFor s k n Next.Command → IsReady s k n
given s k n some (v, opens_given h) = ready s k n v h
given s k n some (v, restores_given r u) = record { serves = v; selected = r.selected; untaken = u some }

goes_on : (s : ScenarioValue) (k : RunState) (n : Connection) (dev : ℕ) (at : Phase) {atn : Bool} {phase : Phase}
    → ways.GoesOn (serving_at s k dev at) atn phase → IsLeft s k phase → StandsIn s k n phase
    → IsNoneOrAll (dialogue_of k).heard.now.command
goes_on s k n dev at (ways.planned _ e) left h = let w : GivesOn k = subst (GivesFor s k n) e h in w.now
goes_on s k n dev at (ways.at_once e _) left h =
    ap (λ (c : CommandBytes). is_none_or_all c) h.1.counts ∙ none_or_all (carried_here k h.0.id).block
    (left.whole refl h.0 e)
goes_on s k n dev at (ways.guest e _) left h =
    ap (λ (c : CommandBytes). is_none_or_all c) h.1.counts ∙ none_or_all (carried_here k h.0.id).block
    (left.whole refl h.0 e)

by_way : (s : ScenarioValue) (k : RunState) (n : Connection) (dev : ℕ) (at : Phase) {atn : Bool} {phase : Phase}
    {l : Leaving} → ways.Leaves (serving_at s k dev at) atn phase l → IsLeft s k phase → StandsIn s k n phase
    → Leads s k n l
by_way s k n dev at (ways.rejects _ o _) left h = asks s k n _ (opened s k n dev at o left h)
by_way s k n dev at (ways.answers _ o _) left h = asks s k n _ (opened s k n dev at o left h)
by_way s k n dev at (ways.requests _ o _ _) left h = asks s k n _ (opened s k n dev at o left h)
by_way s k n dev at (ways.opens o _) left h = let w = opened s k n dev at o left h in ready s k n w.0 w.1
by_way s k n dev at (ways.is_answered c e) left h =
    answered s k n k.exchange.plan.next (left.out refl).refusal e (subst (SaysFor s k n) c h)
by_way s k n dev at (ways.repeats _ r) left h = repeats s k n k.exchange.plan.next (subst (SaysFor s k n) r.cause h)
by_way s k n dev at (ways.restores _ _ _ (ways.command _)) left h = (h.0, by_restoring h.1.selected refl)
by_way s k n dev at (ways.restores _ _ _ (ways.data_out _)) left h = h
by_way s k n dev at (ways.restores _ _ _ (ways.data_in c)) left h =
    let w : RejectsOn k = subst (SaysFor s k n) c h in w.heard
by_way s k n dev at (ways.commands _ e) left h = given s k n (left.some refl) (subst (GivesFor s k n) e h)
by_way s k n dev at (ways.reads _ _ g _) left h = goes_on s k n dev at g left h
by_way s k n dev at (ways.writes _ _ g _) left h = goes_on s k n dev at g left h
by_way s k n dev at _ left h = tt

pub leads : (s : ScenarioValue) (k : RunState) (n : Connection) (dev : ℕ) (atn : Bool) (phase : Phase)
    → IsLeft s k phase → StandsIn s k n phase → Leads s k n (phase_leaving (serving_at s k dev phase) atn phase)
leads s k n dev atn phase = by_way s k n dev phase (ways.leaves (serving_at s k dev phase) atn phase)
