-- In the opening after a selection nothing is shown while the connection stands; and the connection of a process does
-- not end there (6.1.3, 6.6).
use Rattle.story_laws.proofs
use proofs.Names.{ℕ, ◌≡◌, Bool, true, false, not, ◌&&◌, ◌||◌, ◌∙◌, Option, Some, None, refl, sym, ap, if◌then◌else◌}
use proofs.Names.{is_some, wrong, wrong', or_other, ProcId, LineSet, is_command, is_message_in, is_message_out}
use proofs.Names.{Agreement, Connection, MsgIn, ScenarioValue, TargetDef, Process, process_of, is_status_phase, Item}
use proofs.Names.{process, abort, is_status_next, Serving, after_offer, bus_free, leaving_by, message_out_leaving}
use proofs.Names.{phase_leaving, phase_of, request_or_command, request_by, Cause, Leaving, Phase, named_none}
use proofs.Names.{is_item_named, is_opening_named, is_process_named, RunState, bus_of, process_item, process_served}
use proofs.Names.{leaving, serving_of, is_opening, is_opening_in, AreUnits, out_over, opening_named, IsOver, Speaks}
use proofs.{Names.{out_lines}, Commands.Next.{out_unstruck}}

-- ---- a phase that is left without an event

pub out_no_command : (b : LineSet) → is_message_out b ≡ true → (is_command b ≡ false) × (is_message_in b ≡ false)
out_no_command b e = go b.msg b.cd b.io e
  where
    go : (m d i : Bool) → (m && d && not i) ≡ true → ((not m && d && not i) ≡ false) × ((m && d && i) ≡ false)
    go true true true z = wrong' z
    go true true false z = (refl, refl)
    go true false i z = wrong' z
    go false d i z = wrong' z

pub status_is : (b : LineSet) → is_status_phase b ≡ is_status_next (Some (phase_of b))
status_is b = go b.msg b.cd b.io
  where
    go : (m d i : Bool)
        → (not m && d && i) ≡ is_status_next (Some (if m then (if i then Phase.MessageIn else Phase.MessageOut)
        else if d then (if i then Phase.Status else Phase.Command) else if i then Phase.DataIn else Phase.DataOut))
    go true d true = refl
    go true d false = refl
    go false true true = refl
    go false true false = refl
    go false false true = refl
    go false false false = refl

-- ---- where the opening leads

requested :
    (m : Option MsgIn) → (is_status_next (request_or_command m).to ≡ false) × (is_some (request_or_command m).to ≡ true)
requested None = (refl, refl)
requested (Some m) = (refl, refl)

offered : (def : Option TargetDef) (negotiates : Bool) (offer : Option Agreement)
    → (is_status_next (after_offer def negotiates offer).to ≡ false)
    × (is_some (after_offer def negotiates offer).to ≡ true)
offered def negotiates (Some offer) = (refl, refl)
offered def true None = requested (request_by def)
offered def false None = (refl, refl)

-- Not to STATUS; and to BUS FREE only where an abort was heard.
pub opening_leads : (v : Serving) → is_status_next (message_out_leaving v Cause.Selected).to ≡ false
opening_leads v = go (is_some v.plan.said.aborts)
  where
    go : (q : Bool)
        → is_status_next (if q then bus_free else after_offer v.def v.plan.negotiates v.plan.said.offer).to ≡ false
    go true = refl
    go false = (offered v.def v.plan.negotiates v.plan.said.offer).0

opening_goes_on : (v : Serving) → is_some v.plan.said.aborts ≡ false
    → is_some (message_out_leaving v Cause.Selected).to ≡ true
opening_goes_on v e =
    ap (λ (q : Bool). is_some (if q then bus_free else after_offer v.def v.plan.negotiates v.plan.said.offer).to) e
    ∙ (offered v.def v.plan.negotiates v.plan.said.offer).1

-- ---- the opening

pub opens_at : (phase : Phase) (cause : Cause) → is_opening_in phase cause ≡ true
    → (phase ≡ Phase.MessageOut) × (cause ≡ Cause.Selected)
opens_at Phase.MessageOut Cause.Selected e = (refl, refl)
opens_at Phase.MessageOut _ e = wrong' e
opens_at Phase.MessageIn cause e = wrong' e
opens_at Phase.Command cause e = wrong' e
opens_at Phase.DataIn cause e = wrong' e
opens_at Phase.DataOut cause e = wrong' e
opens_at Phase.Status cause e = wrong' e

pub opening_begun : (k : RunState) → is_opening k ≡ true → k.exchange.begun ≡ true
    → (phase_of (bus_of k) ≡ Phase.MessageOut) × (k.exchange.plan.cause ≡ Cause.Selected)
opening_begun k e b = opens_at (phase_of (bus_of k)) k.exchange.plan.cause
    (sym (λ i. not (b i) || is_opening_in (phase_of (bus_of k)) k.exchange.plan.cause) ∙ e)

pub opening_leaving : (s : ScenarioValue) (k : RunState) (dev : ℕ) → is_opening k ≡ true → k.exchange.begun ≡ true
    → leaving s k dev ≡ message_out_leaving (serving_of s k dev) Cause.Selected
opening_leaving s k dev e b =
    let at = opening_begun k e b in
    ap (λ (q : Bool). leaving_by (serving_of s k dev) q (bus_of k)) b
    ∙ ap (λ (x : Phase). phase_leaving (serving_of s k dev) (bus_of k).atn x) at.0
    ∙ ap (λ (x : Cause). message_out_leaving (serving_of s k dev) x) at.1

-- ---- the connection of a process does not end there

pub alone : (s : ScenarioValue) (k : RunState) (n : Connection) → AreUnits s → Speaks s k n
    → k.exchange.begun ≡ true → ((bus_of k).msg ≡ true → (bus_of k).cd ≡ true) → IsOver s k n → is_opening k ≡ true
    → (leaving s k n.target).to ≡ None → process_served s k ≡ None
alone s k n u speaks b known over opens to = go k.served refl
  where
    at : (phase_of (bus_of k) ≡ Phase.MessageOut) × (k.exchange.plan.cause ≡ Cause.Selected)
    at = opening_begun k opens b

    out : is_message_out (bus_of k) ≡ true
    out = out_lines (bus_of k) at.0 known

    named : is_item_named s k.exchange.plan.said k.served ≡ true
    named = or_other k.exchange.plan.struck (is_item_named s k.exchange.plan.said k.served)
        (out_unstruck s k n at.0 over) (sym (ap (is_opening_named s k.exchange.plan k.served) at.1)
        ∙ opening_named s k n u speaks b out (out_over s k n out over))

    by : (id : ProcId) → k.served ≡ Some (process id) → (o : Option Process) → process_of s id ≡ o
        → process_served s k ≡ None
    by id e None f = ap (process_item s) e ∙ f
    by id e (Some p) f =
        let none = named_none k.exchange.plan.said p (ap (is_process_named k.exchange.plan.said) (sym f)
        ∙ ap (is_item_named s k.exchange.plan.said) (sym e) ∙ named) in
        wrong (sym (opening_goes_on (serving_of s k n.target) none)
        ∙ ap (λ (l : Leaving). is_some l.to) (sym (opening_leaving s k n.target opens b))
        ∙ ap (λ (o : Option Phase). is_some o) to)

    go : (o : Option Item) → k.served ≡ o → process_served s k ≡ None
    go None e = ap (process_item s) e
    go (Some (abort m)) e = ap (process_item s) e
    go (Some (process id)) e = by id e (process_of s id) refl
