-- A phase is left: what the target of the connection has been told then fits the phase that begins.
use Rattle.story_laws.proofs
use proofs.Names.{◌≡◌, Bool, true, false, not, ◌&&◌, ◌||◌, ◌∙◌, List, [], ◌∷◌, Option, Some, None, refl, sym, ap, subst}
use proofs.Names.{if◌then◌else◌, is_some, wrong, wrong', same, changes_phase, is_command, is_message_out, is_fault}
use proofs.Names.{receiver_in, Row, Change, Connection, has_group_len, ScenarioValue, Exchange, plan_anew, Serving}
use proofs.Names.{bus_free, after_offer, leaving_by, message_out_leaving, phase_leaving, phase_of, cause_after}
use proofs.Names.{plan_in_message_out, parity_error, Cause, Hearing, Leaving, Next, Phase, Plan, Said, is_item_named}
use proofs.Names.{is_process_named, RunState, bus_of, carried_here, run_state, hearing_of, leaving, serving_of}
use proofs.Names.{command_is, Instructions, instructions, instructions_on, instructions_with, is_command_phase}
use proofs.Names.{is_opening, is_opening_in, InConnection, in_connection, HasPhase, is_out_phase, IsRowIn, reading_in}
use proofs.Names.{out_phase, plan_by, by_bool, AnswersFor, CommandBooks, SaysFor, Serves, StandsIn, KnownFor, KnownIn}
use proofs.{Names.{Selected, Instructed}, Commands.{Leavings.{Leads, LeadsTo, leads}, Turns.{SameBlocks, Turns}}}
use proofs.{Commands.Turns.{same_blocks, serves_as}, Instructed.Known.{Fits, FitsPhase, fits, known_after}}
use proofs.Instructed.{Opening.{opens_at}, Steps.{told_with}, Turns.{block_turned, enters_known, known_turned}}
use proofs.Instructed.Turns.{opening_turned, out_is, refused_known, told_before}
use Rattle.row_laws.specs.scsi_device.specs.Heard.{is_name}

-- ---- lines

not_again : (c : Change) → changes_phase c ≡ true → is_command c.before ≡ true → is_command c.after ≡ false
not_again c ep e = go c.before.msg c.before.cd c.before.io c.after.msg c.after.cd c.after.io ep e
  where
    go : (m d i x y z : Bool) → not (same m x && same d y && same i z) ≡ true → (not m && d && not i) ≡ true
        → (not x && y && not z) ≡ false
    go true d i x y z f g = wrong' g
    go false false i x y z f g = wrong' g
    go false true true x y z f g = wrong' g
    go false true false true y z f g = refl
    go false true false false false z f g = refl
    go false true false false true true f g = refl
    go false true false false true false f g = wrong' f

both_false : (a b : Bool) → a ≡ true → b ≡ false → (not a || b) ≡ false
both_false a b e f = λ i. not (e i) || f i

some_offer : {A : Type 0} {B : Type 0} (o : Option B) → o ≡ None → is_some o ≡ true → A
some_offer o e f = wrong' (sym (ap is_some e) ∙ f)

-- ---- the row

-- What is asked of the row: the opening was of what is served, and the block of COMMAND was that of the process.
pub record LeavesTold (s : ScenarioValue) (k : RunState) (n : Connection) (c : Change) : Type 0 where
  pub turns : Turns s k n c
  pub named : k.exchange.begun ≡ true → phase_of (bus_of k) ≡ Phase.MessageOut → k.exchange.plan.cause ≡ Cause.Selected
      → is_item_named s k.exchange.plan.said k.served ≡ true
  pub whole : k.exchange.begun ≡ true → phase_of (bus_of k) ≡ Phase.Command
      → k.exchange.plan.struck ≡ false → (v : Serves s k)
      → (has_group_len (carried_here k v.id).block ≡ true) × ((carried_here k v.id).block ≡ v.process.cdb)

pub leaves_told : (s : ScenarioValue) (p : List Row) (row : Row) (n : Connection) (c : Change)
    → IsRowIn (run_state s p) row n c → HasPhase (run_state s p) → is_fault row.kind ≡ false
    → changes_phase c ≡ true → is_some (receiver_in n c) ≡ false → LeavesTold s (run_state s p) n c
    → CommandBooks s (run_state s p) n → Instructed s (run_state s p) (instructions s p) n
    → Instructed s (run_state s (row ∷ p)) (instructions s (row ∷ p)) n
leaves_told s p row n c r phase ef ep er t books h =
    subst (λ (x : Instructions). Instructed s j x n) (sym (told_with s p row n c false r er)) (record {
      served = λ z. serves_as s k j at.served_is (served k.exchange.begun refl z);
      selected = λ z. selected (h.selected z) k.exchange.begun refl;
      again = λ z.
          let w = h.again z in
          (ap (λ (x : Instructions). x.known) (told_before here plan i w.0) ∙ w.0, serves_as s k j at.served_is w.1);
    })
  where
    k : RunState
    k = run_state s p

    j : RunState
    j = run_state s (row ∷ p)

    i : Instructions
    i = instructions s p

    plan : Plan
    plan = k.exchange.plan

    here : Hearing
    here = hearing_of k row (reading_in k.story.bus_state n c false)

    told : Instructions
    told = instructions_on here plan i

    l : Leaving
    l = leaving s k n.target

    v : Serving
    v = serving_of s k n.target

    at : InConnection s k row n c true false false
    at = in_connection s k row n c true false false r ep er ef

    blocks : SameBlocks k j
    blocks = same_blocks s k row n c r er at.served_is

    begun : j.exchange.begun ≡ true
    begun = ap (λ (x : Exchange). x.begun) at.exchange_is

    phase_is : phase_of (bus_of j) ≡ phase_of c.after
    phase_is = ap phase_of at.bus_is

    by_plan : (q : Bool) → is_message_out c.after ≡ q → (b : Bool) → k.exchange.begun ≡ b
        → j.exchange.plan ≡ (if not q then record (plan_anew plan) { messages = l.messages; next = l.next }
        else if b then plan_in_message_out here plan else plan_anew plan)
    by_plan q e b f = ap (λ (x : Exchange). x.plan) at.exchange_is
        ∙ plan_by here l plan e f

    before : is_command c.before ≡ is_command_phase (phase_of (bus_of k))
    before = ap is_command (sym r.bus_is) ∙ command_is (bus_of k)

    out_before : is_message_out c.before ≡ is_out_phase (phase_of (bus_of k))
    out_before = ap is_message_out (sym r.bus_is) ∙ out_is (bus_of k) (λ z. (phase z).0)

    serving_before : Serves s j → Serves s k
    serving_before x = serves_as s j k (sym at.served_is) x

    -- the opening
    cut : k.exchange.begun ≡ true → phase_of (bus_of k) ≡ Phase.MessageOut → plan.cause ≡ Cause.Selected
        → is_some plan.said.aborts ≡ false
    cut b e ec = by_bool (is_some plan.said.aborts) (λ f. wrong'
        (ap (λ (q : Bool). is_some (if q then bus_free else after_offer v.def plan.negotiates plan.said.offer).to)
        (sym f) ∙ ap (λ (o : Option Phase). is_some o) (sym to ∙ t.turns.whereto b))) (λ f. f)
      where
        to : l.to
            ≡ (if is_some plan.said.aborts then bus_free else after_offer v.def plan.negotiates plan.said.offer).to
        to = ap (λ (q : Bool). (leaving_by v q (bus_of k)).to) b
            ∙ ap (λ (x : Phase). (phase_leaving v (bus_of k).atn x).to) e
            ∙ ap (λ (x : Cause). (message_out_leaving v x).to) ec

    serves_on : k.exchange.begun ≡ true → Serves s k
    serves_on b = by_bool (is_opening_in (phase_of (bus_of k)) plan.cause)
        (λ e. let o = opens_at (phase_of (bus_of k)) plan.cause e in
        (((t.turns.left b).out o.0).serves) o.1 (cut b o.0 o.1))
        (λ e. h.served (both_false k.exchange.begun (is_opening_in (phase_of (bus_of k)) plan.cause) b e))

    opens_out : k.exchange.begun ≡ false → is_opening j ≡ true
    opens_out b =
        let out = t.turns.first b in
        let now : j.exchange.plan.cause ≡ Cause.Selected = ap (λ (x : Plan). x.cause) (by_plan true out false b)
        ∙ t.turns.selected b in
        λ z. not (begun z) || is_opening_in ((phase_is ∙ out_phase c.after out) z) (now z)

    served : (b : Bool) → k.exchange.begun ≡ b → is_opening j ≡ false → Serves s k
    served false b z = wrong (sym (opens_out b) ∙ z)
    served true b z = serves_on b

    -- MESSAGE OUT that answers MESSAGE IN
    answers : k.exchange.begun ≡ true → phase_of (bus_of k) ≡ Phase.MessageOut → plan.cause ≡ Cause.InMessage
        → is_some plan.said.offer ≡ true → plan.next ≡ Next.Command
    answers b e ec some = go plan.next refl
        (subst (λ (x : Cause). SaysFor s k n x) ec (subst (λ (x : Phase). StandsIn s k n x) e (books.begun b)))
      where
        refusal : k.exchange.speech.words ≡ parity_error → plan.next ≡ Next.Command
        refusal w = some_offer plan.said.offer ((((t.turns.left b).out e).refusal) w) some

        go : (x : Next) → plan.next ≡ x → AnswersFor s k n plan.next → plan.next ≡ Next.Command
        go Next.Command f z = f
        go Next.GoOn f z = refusal (subst (λ (y : Next). AnswersFor s k n y) f z).words_are
        go Next.Status f z = refusal (subst (λ (y : Next). AnswersFor s k n y) f z)
        go Next.FreeBus f z = refusal (subst (λ (y : Next). AnswersFor s k n y) f z)

    known_is : k.exchange.begun ≡ true → told.known ≡ known_after i.known plan.struck (phase_of (bus_of k))
    known_is b = known_turned here plan i (phase_of (bus_of k)) b ep before

    lead : k.exchange.begun ≡ true → LeadsTo s k n l.next l.messages (Some (phase_of c.after))
    lead b =
        let first = leads s k n n.target (bus_of k).atn (phase_of (bus_of k)) (t.turns.left b) (books.begun b) in
        let mine : Leads s k n l = subst (λ (q : Bool). Leads s k n (leaving_by v q (bus_of k))) (sym b) first in
        subst (λ (o : Option Phase). LeadsTo s k n l.next l.messages o) (t.turns.whereto b) mine

    stage : Selected s k i → k.exchange.begun ≡ true → KnownIn told.known j.exchange.plan (phase_of (bus_of j))
    stage w b = subst (λ (x : Phase). KnownIn told.known j.exchange.plan x) (sym phase_is)
        (go (is_message_out c.after) refl (is_out_phase (phase_of c.after)) refl)
      where
        mine : FitsPhase told.known l.next (Some (phase_of c.after))
        mine =
            let first = fits i.known v (bus_of k).atn (phase_of (bus_of k)) (w.stage b) (λ e. answers b e) in
            let whole : Fits (known_after i.known plan.struck (phase_of (bus_of k))) l = subst (λ (q : Bool). Fits
            (known_after i.known plan.struck (phase_of (bus_of k))) (leaving_by v q (bus_of k))) (sym b) first in
            subst (λ (q : Bool). FitsPhase q l.next (Some (phase_of c.after))) (sym (known_is b))
            (subst (λ (o : Option Phase). FitsPhase (known_after i.known plan.struck (phase_of (bus_of k))) l.next o)
            (t.turns.whereto b) whole)

        go : (q : Bool) → is_message_out c.after ≡ q → (o : Bool) → is_out_phase (phase_of c.after) ≡ o
            → KnownIn told.known j.exchange.plan (phase_of c.after)
        go true e o f =
            let x = by_plan true e true b in
            subst (λ (y : Phase). KnownIn told.known j.exchange.plan y) (sym (out_phase c.after e)) (refused_known
            (bus_of k) i.known told.known plan j.exchange.plan (λ z. (phase z).0) (ap (λ (y : Plan). y.next) x)
            (ap (λ (y : Plan). y.cause) x ∙ ap cause_after (sym r.bus_is)) (known_is b) (w.stage b))
        go false e true f = wrong' (sym e ∙ out_is c.after t.turns.known ∙ f)
        go false e false f = enters_known told.known l.next j.exchange.plan (phase_of c.after) f
            (ap (λ (y : Plan). y.next) (by_plan false e true b)) mine

    known_before : told.known ≡ false → i.known ≡ false
    known_before e =
        by_bool i.known
        (λ f. wrong (sym f ∙ sym (ap (λ (x : Instructions). x.known) (told_before here plan i f)) ∙ e))
        (λ f. f)

    named : Selected s k i → k.exchange.begun ≡ true → (x : Serves s j) → is_name told.opening x.process ≡ true
    named w b x = go i.known refl (is_opening_in (phase_of (bus_of k)) plan.cause) refl
      where
        y : Serves s k
        y = serving_before x

        of_said : phase_of (bus_of k) ≡ Phase.MessageOut → plan.cause ≡ Cause.Selected
            → is_process_named plan.said (Some x.process) ≡ true
        of_said e ec = ap (is_process_named plan.said) (sym y.process_is)
            ∙ ap (is_item_named s plan.said) (sym y.served_is) ∙ t.named b e ec

        go : (q : Bool) → i.known ≡ q → (o : Bool) → is_opening_in (phase_of (bus_of k)) plan.cause ≡ o
            → is_name told.opening x.process ≡ true
        go true e true f =
            let o = opens_at (phase_of (bus_of k)) plan.cause f in
            wrong (sym e ∙ subst (λ (z : Cause). KnownFor i.known plan.next z) o.1
            (subst (λ (z : Phase). KnownIn i.known plan z) o.0 (w.stage b)))
        go true e false f = ap (λ (z : Instructions). is_name z.opening x.process) (told_before here plan i e)
            ∙ w.named (both_false k.exchange.begun _ b f) y
        go false e true f =
            let o = opens_at (phase_of (bus_of k)) plan.cause f in
            ap (λ (z : Option Said). is_name z x.process)
            (opening_turned here plan i (phase_of (bus_of k)) b ep out_before e
            ∙ ap (λ (q : Bool). if q then Some plan.said else i.opening) f)
            ∙ of_said o.0 o.1
        go false e false f = ap (λ (z : Option Said). is_name z x.process)
            (opening_turned here plan i (phase_of (bus_of k)) b ep out_before e
            ∙ ap (λ (q : Bool). if q then Some plan.said else i.opening) f)
            ∙ w.named (both_false k.exchange.begun _ b f) y

    carried : Selected s k i → k.exchange.begun ≡ true → phase_of (bus_of j) ≡ Phase.Command
        → (x : Serves s j) → told.block ≡ (carried_here j x.id).block
    carried w b e x =
        let y = serving_before x in
        let unknown = known_before (subst (λ (z : Phase). KnownIn told.known j.exchange.plan z) e (stage w b)) in
        let into : phase_of c.after ≡ Phase.Command = sym phase_is ∙ e in
        let ready = subst (λ (z : Phase). LeadsTo s k n l.next l.messages (Some z)) into (lead b) in
        block_turned here plan i ep unknown
        ∙ ap (λ (q : Bool). if q then [] else i.block) (command_is c.after ∙ ap is_command_phase into)
        ∙ sym (blocks.block_is x.id ∙ ready.untaken.block x.id y.served_is)

    block : Selected s k i → k.exchange.begun ≡ true → told.known ≡ true
        → (x : Serves s j) → (has_group_len told.block ≡ true) × (told.block ≡ x.process.cdb)
    block w b known x = by_bool i.known (λ e. let is = ap (λ (z : Instructions). z.block) (told_before here plan i e) in
        let z = w.block e y in (ap has_group_len is ∙ z.0, is ∙ z.1))
        (λ e. let a = learned (phase_of (bus_of k)) plan.struck
        (ap (λ (q : Bool). known_after q plan.struck (phase_of (bus_of k))) (sym e) ∙ sym (known_is b) ∙ known) in
        let is : told.block ≡ (carried_here k y.id).block = block_turned here plan i ep e
        ∙ ap (λ (q : Bool). if q then [] else i.block) (not_again c ep (before ∙ ap is_command_phase a.0))
        ∙ w.carried b a.0 y in let z = t.whole b a.0 a.1 y in (ap has_group_len is ∙ z.0, is ∙ z.1))
      where
        y : Serves s k
        y = serving_before x

        learned : (a : Phase) (q : Bool) → known_after false q a ≡ true → (a ≡ Phase.Command) × (q ≡ false)
        learned Phase.Command true f = wrong' f
        learned Phase.Command false f = (refl, refl)
        learned Phase.MessageOut q f = wrong' f
        learned Phase.MessageIn q f = wrong' f
        learned Phase.DataIn q f = wrong' f
        learned Phase.DataOut q f = wrong' f
        learned Phase.Status q f = wrong' f

    selected : Selected s k i → (b : Bool) → k.exchange.begun ≡ b → Selected s j told
    selected w true b = record {
      unbegun = λ z. wrong (sym begun ∙ z);
      stage = λ z. stage w b;
      named = λ z x. named w b x;
      carried = λ z e x. carried w b e x;
      block = λ z x. block w b z x;
    }
    selected w false b =
        let out = t.turns.first b in
        let still : told.known ≡ false = (λ z. (if w.unbegun b z then i else instructions_with here plan i).known)
        ∙ (λ z. b z && changes_phase c && is_command c.before && not plan.struck) in
        let now : j.exchange.plan.cause ≡ Cause.Selected = ap (λ (x : Plan). x.cause) (by_plan true out false b)
        ∙ t.turns.selected b in
        let into : phase_of (bus_of j) ≡ Phase.MessageOut = phase_is ∙ out_phase c.after out in
        record {
          unbegun = λ z. still;
          stage = λ z. subst (λ (x : Phase). KnownIn told.known j.exchange.plan x) (sym into)
              (subst (λ (x : Cause). KnownFor told.known j.exchange.plan.next x) (sym now) still);
          named = λ z x. wrong (sym (opens_out b) ∙ z);
          carried = λ z e x. wrong' (ap is_command_phase (sym into ∙ e));
          block = λ z x. wrong (sym z ∙ still);
        }
