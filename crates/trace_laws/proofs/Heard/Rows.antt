-- Where the target may leave a phase: REQ is false, and no byte follows; then what was to be said in it was said.
use Rattle.trace_laws.proofs
use proofs.Names.{◌≡◌, ◌<◌, Bool, true, false, not, ◌&&◌, ◌||◌, ◌==◌, ◌∙◌, ℕ, List, Option, Some, None, refl, sym, ap}
use proofs.Names.{◌⊎◌, inl, inr, ◌∷◌, subst, and_from, if◌then◌else◌, is_some, is_none, wrong, wrong', or_true}
use proofs.Names.{implication, unless, all_three, ProcId, change_of, LineSet, is_command, is_message_out, connection}
use proofs.Names.{connection_after, bus, drives, Row, Change, Connection, Dialogue, ScenarioValue, Obeys, reply_in}
use proofs.Names.{Process, running_process, RowReading, row_reading, Item, same_bytes, begun, phase_of, Next, Phase}
use proofs.Names.{is_block_of_process, is_true_leaving, IsLeast, due, IsPrompt, RunState, bus_of, drives_of}
use proofs.Names.{process_served, array_of, carried_here, item_of, run_state, offering_of, obeys_fits, units_are}
use proofs.Names.{phase_is_command, is_said, Instructions, gives_status, instructions, is_answered, is_command_phase}
use proofs.Names.{is_heard, is_heard_after, is_heard_in, is_heard_on, is_heard_process, is_heard_row, is_instructed}
use proofs.Names.{is_known_item, is_message, is_new, is_of_scenario, is_opening, is_opening_in, is_served, is_true_end}
use proofs.Names.{is_unanswered, moves_data, may_leave, AreUnits, block_own, process_same, out_over, command_over}
use proofs.Names.{opening_named, HasPhase, IsItem, is_process, is_abort, Knows, IsOver, change_plain, least_is}
use proofs.Names.{EndLines, Linked, LinkStage, when_selected, when_settling, when_turning, when_offering, when_shaking}
use proofs.Names.{when_pulsing, HasCommands, commands_are, none_some, out_lines, message_is, by_bool}
use proofs.Names.{stage_of_connection, begins_now, goes_now, row_kind, no_third, Stood, link_phase, ArePlaced}
use proofs.Names.{BeginsPlaced, IsPlacedIn, same_process as same_id_of, served_process, CommandBooks, CommandFacts}
use proofs.Names.{Serves, StandsIn, TakesBlock, Instructed, InstructedFacts, KnownIn, KnownNext, Named, NamedFacts}
use proofs.{Names.{known, refused, said}, Heard.Turns.{heard_goes}}
use Rattle.due_model.specs.Faithful.{same_process}
use Rattle.story_laws.specs.link_laws.specs.Phases.{ends}
use Rattle.story_laws.specs.book_laws.proofs.Carried.Blocks.{same_self}

-- ---- the lines

-- In MESSAGE OUT ATN is then as the last byte left it.
pub over_at : (s : ScenarioValue) (p : List Row) (n : Connection) → Stood s p
    → connection p ≡ Some n → (bus p).rst ≡ false → begun p ≡ true → (drives p n.target).req ≡ false
    → (offering_of s (run_state s p) n.target).follows ≡ false → IsOver s (run_state s p) n
over_at s p n was con calm b low none = record {
  follows = none;
  attention = λ out. by (stage_of_connection s p n was con calm) (ap is_message_out (sym was.plain.bus) ∙ out);
}
  where
    k : RunState
    k = run_state s p

    of_ends : (e : EndLines) → Linked p n e → (e.sent == 0 || e.ack) ≡ true → is_message_out (bus p) ≡ true
        → (bus_of k).atn ≡ not k.story.bus_state.dialogue.is_last
    of_ends e h q out =
        let on = h.stands.bus_is in
        let d = was.driven n con calm e h b in
        ap (λ (l : LineSet). l.atn) (was.plain.bus ∙ on) ∙ d.attention (ap is_message_out (sym on) ∙ out) q
        ∙ ap (λ (x : Dialogue). not x.is_last) (sym was.plain.dialogue)

    to_initiator : {A : Type 0} (e : EndLines) → Linked p n e → e.io ≡ true → is_message_out (bus p) ≡ true → A
    to_initiator e h io out = absurd
        (no_third e.msg e.cd ((λ i. e.msg && e.cd && not (sym io i)) ∙ ap is_message_out (sym h.stands.bus_is) ∙ out))

    by : LinkStage s p n → is_message_out (bus p) ≡ true → (bus_of k).atn ≡ not k.story.bus_state.dialogue.is_last
    by (when_selected h) out = wrong (sym b ∙ h.begun_is)
    by (when_settling bsy atn msg cd io y h) out = of_ends (ends bsy false atn 0 msg cd io false y) h.linked refl out
    by (when_turning atn x msg cd h) out = to_initiator (ends false false atn x msg cd true false 0) h.linked refl out
    by (when_offering atn msg cd y h) out = to_initiator (ends false false atn 0 msg cd true false y) h.linked refl out
    by (when_shaking msg cd true req ack atn x y h) out =
        to_initiator (ends false ack atn x msg cd true req y) h.linked refl out
    by (when_shaking msg cd false true ack atn x y h) out =
        wrong (sym (ap (λ (l : LineSet). l.req) h.linked.target) ∙ low)
    by (when_shaking msg cd false false true atn x y h) out =
        of_ends (ends false true atn x msg cd false false y) h.linked (or_true (x == 0)) out
    by (when_shaking msg cd false false false atn x y h) out =
        of_ends (ends false false atn x msg cd false false y) h.linked (ap (λ (z : ℕ). z == 0 || false) h.driven) out
    by (when_pulsing io req ack atn x y h a) out = wrong' (sym (ap is_message_out h.linked.stands.bus_is) ∙ out)

-- ---- what was to be said

and_3 : (a b c : Bool) → (a && not b && not c) ≡ true → (a ≡ true) × (b ≡ false) × (c ≡ false)
and_3 true true c e = wrong' e
and_3 true false true e = wrong' e
and_3 true false false e = (refl, refl, refl)
and_3 false b c e = wrong' e

pub record MayLeave (s : ScenarioValue) (p : List Row) (n : Connection) : Type 0 where
  pub begun_is : (run_state s p).exchange.begun ≡ true
  pub over : IsOver s (run_state s p) n

pub leaves_at : (s : ScenarioValue) (p : List Row) (n : Connection) → Stood s p → connection p ≡ Some n
    → (bus p).rst ≡ false → n.target < 8 → may_leave s (run_state s p) n ≡ true → MayLeave s p n
leaves_at s p n was con calm lt e =
    let k = run_state s p in
    let pl = was.plain in
    let w = and_3 k.exchange.begun (drives_of k n.target).req (offering_of s k n.target).follows e in
    record {
      begun_is = w.0;
      over = over_at s p n was con calm (sym pl.begun ∙ w.0)
          (ap (λ (l : LineSet). l.req) (sym (pl.drives n.target lt)) ∙ w.1) w.2;
    }

pub said_over : (s : ScenarioValue) (p : List Row) (n : Connection) → AreUnits s
    → HasCommands s → Stood s p → connection p ≡ Some n → (bus p).rst ≡ false → MayLeave s p n
    → is_true_leaving s (run_state s p) (process_served s (run_state s p)) (phase_of (bus_of (run_state s p))) ≡ true
said_over s p n u gr was con calm m = go (phase_of (bus_of k)) refl
  where
    k : RunState
    k = run_state s p

    here : k.story.bus_state.connection ≡ Some n
    here = was.plain.connection ∙ con

    quiet : (bus_of k).rst ≡ false
    quiet = ap (λ (l : LineSet). l.rst) was.plain.bus ∙ calm

    phase : HasPhase k
    phase z =
        let w = link_phase s p n (stage_of_connection s p n was con calm)
        (ap (λ (l : LineSet). l.msg) (sym was.plain.bus) ∙ z) in
        (ap (λ (l : LineSet). l.cd) was.plain.bus ∙ w.0, was.plain.begun ∙ w.1)

    block : phase_of (bus_of k) ≡ Phase.Command → (o : Option Process) → process_served s k ≡ o
        → is_block_of_process s k o ≡ true
    block e None f = refl
    block e (Some pr) f = block_own s k pr was.books.carry f (gr.group k pr f)
        (λ z. command_over s k n pr (in_command (bus_of k) e) m.over f z)
      where
        in_command : (b : LineSet) → phase_of b ≡ Phase.Command → is_command b ≡ true
        in_command b z = of_lines b.msg b.cd b.io z
          where
            of_lines : (a c i : Bool) → (if a then (if i then Phase.MessageIn else Phase.MessageOut)
                else if c then (if i then Phase.Status else Phase.Command)
                else if i then Phase.DataIn else Phase.DataOut) ≡ Phase.Command
                → (not a && c && not i) ≡ true
            of_lines true c true z = absurd cc
            of_lines true c false z = absurd cc
            of_lines false true true z = absurd cc
            of_lines false true false z = refl
            of_lines false false true z = absurd cc
            of_lines false false false z = absurd cc

    go : (x : Phase) → phase_of (bus_of k) ≡ x → is_true_leaving s k (process_served s k) x ≡ true
    go Phase.MessageOut e =
        let out = out_lines (bus_of k) e (λ z. (phase z).0) in
        opening_named s k n u (was.books.speaks n here quiet) m.begun_is out (out_over s k n out m.over)
    go Phase.Command e = block e (process_served s k) refl
    go _ e = refl

pub said_at : (s : ScenarioValue) (p : List Row) (n : Connection) → AreUnits s → HasCommands s → Stood s p
    → connection p ≡ Some n → (bus p).rst ≡ false → n.target < 8 → is_said s (run_state s p) n ≡ true
said_at s p n u gr was con calm lt = implication (may_leave s (run_state s p) n) _
    (λ e. said_over s p n u gr was con calm (leaves_at s p n was con calm lt e))

-- ---- Of a prompt trace: what the target of a connection hears in it is of the process that it serves, where that
-- stands in the plain disk array as the phase says.

out_message : (b : LineSet) → is_message_out b ≡ true → is_message (phase_of b) ≡ true
out_message b e = go b.msg b.cd b.io e
  where
    go : (m d i : Bool) → (m && d && not i) ≡ true
        → is_message (if m then (if i then Phase.MessageIn else Phase.MessageOut)
        else if d then (if i then Phase.Status else Phase.Command) else if i then Phase.DataIn else Phase.DataOut)
        ≡ true
    go true d true z = refl
    go true d false z = refl
    go false d i z = wrong' z

-- ---- the process that is served

-- The initiator knows it, or it is being named.
pub known_item : (s : ScenarioValue) (k : RunState) (n : Connection) → Knows s k n
    → (n.reselected ≡ true → Named s k n) → is_known_item k n ≡ true
known_item s k n w names = go w.item_is
  where
    here : item_of k.story.link ≡ w.link.item
    here = ap item_of w.link_is

    by : (n.reselected ≡ true) → (w.link.item ≡ None) → Named s k n
        → (n.reselected && is_message (phase_of (bus_of k))) ≡ true
    by e none (known l el some m) =
        wrong (sym some ∙ ap (λ (o : Option Item). is_some o) (sym (ap item_of el) ∙ here ∙ none))
    by e none (said p l h out names all) = λ i. e i && message_is (bus_of k) out i
    by e none (refused p l h out ec names) = λ i. e i && out_message (bus_of k) out i

    go : (w.link.item ≡ k.served) ⊎ ((n.reselected ≡ true) × (w.link.item ≡ None)) → is_known_item k n ≡ true
    go (inl z) = unless (n.reselected && is_message (phase_of (bus_of k))) _
        (λ x. ap (same_process k.served) (here ∙ z) ∙ process_same k.served)
    go (inr (e, none)) = λ i. by e none (names e) i || same_process k.served (item_of k.story.link)

served_item : (s : ScenarioValue) (k : RunState) (n : Connection) → CommandBooks s k n
    → (n.reselected ≡ true → Serves s k) → is_of_scenario s k.served ≡ true
served_item s k n books again =
    by_bool n.reselected
    (λ e. let v = again e in ap (is_of_scenario s) v.served_is ∙ ap (λ (o : Option Process). is_some o) v.process_is)
    (λ e. let h = books.serves e in ap (is_of_scenario s) h.served_is ∙ of_item h.item h.item_is)
  where
    of_item : (item : Item) → IsItem s n.initiator item → is_of_scenario s (Some item) ≡ true
    of_item _ (is_process id p ep own) = ap (λ (o : Option Process). is_some o) ep
    of_item _ (is_abort x a ea own) = ap (λ o. is_some o) ea

pub begun_of : (k : RunState) → is_opening k ≡ false → k.exchange.begun ≡ true
begun_of k e = go k.exchange.begun (is_opening_in (phase_of (bus_of k)) k.exchange.plan.cause) e
  where
    go : (q r : Bool) → (not q || r) ≡ false → q ≡ true
    go true r z = refl
    go false r z = wrong z

-- ---- what it has been told, and where it stands

known_data : (told : Bool) (k : RunState) (x : Phase) → KnownIn told k.exchange.plan x
    → moves_data x k.exchange.plan.next ≡ true → told ≡ true
known_data told k Phase.DataIn h e = h
known_data told k Phase.DataOut h e = h
known_data told k Phase.MessageIn h e = go k.exchange.plan.next h e
  where
    go : (next : Next) → KnownNext told next → moves_data Phase.MessageIn next ≡ true → told ≡ true
    go Next.GoOn h e = h
    go _ h e = wrong' e
known_data told k _ h e = wrong' e

heard_process : (s : ScenarioValue) (k : RunState) (n : Connection) (i : Instructions)
    → CommandBooks s k n → Instructed s k i n → (v : Serves s k) → is_opening k ≡ false
    → IsPlacedIn (array_of s k) v.process (phase_of (bus_of k)) k.exchange.plan.next
    → is_heard_process s k n i (Some v.process) (phase_of (bus_of k)) ≡ true
heard_process s k n i books told v after at =
    and_from _ _ (unless n.reselected _ instructed) (all_three _ _ _ new unanswered answered)
  where
    begun : k.exchange.begun ≡ true
    begun = begun_of k after

    stage : n.reselected ≡ false → KnownIn i.known k.exchange.plan (phase_of (bus_of k))
    stage e = (told.selected e).stage begun

    instructed : n.reselected ≡ false → is_instructed k i v.process (phase_of (bus_of k)) ≡ true
    instructed e =
        let w = told.selected e in
        all_three _ _ _ (w.named after v) (implication (is_command_phase (phase_of (bus_of k))) _
        (λ z. ap (λ (x : ProcId). same_bytes i.block (carried_here k x).block) (same_id_of s k v)
        ∙ ap (same_bytes i.block) (sym (w.carried begun (phase_is_command (phase_of (bus_of k)) z) v))
        ∙ same_self i.block)) (implication i.known _
        (λ z. let b = w.block z v in and_from _ _ b.0 (ap (same_bytes i.block) (sym b.1) ∙ same_self i.block)))

    unknown : is_command_phase (phase_of (bus_of k)) ≡ true → i.known ≡ false
    unknown z =
        let phase = phase_is_command (phase_of (bus_of k)) z in
        let takes : TakesBlock s k n = subst (λ (x : Phase). StandsIn s k n x) phase (books.begun begun) in
        subst (λ (x : Phase). KnownIn i.known k.exchange.plan x) phase (stage takes.1.selected)

    new : (not (is_command_phase (phase_of (bus_of k))) || (not i.known && is_new (array_of s k) v.process)) ≡ true
    new = implication _ _ (λ z. and_from _ _ (ap not (unknown z)) (at.new z))

    knows : moves_data (phase_of (bus_of k)) k.exchange.plan.next ≡ true → i.known ≡ true
    knows z = by_bool n.reselected (λ e. (told.again e).0) (λ e. known_data i.known k (phase_of (bus_of k)) (stage e) z)

    unanswered : (not (moves_data (phase_of (bus_of k)) k.exchange.plan.next)
        || (i.known && is_unanswered (running_process (array_of s k) v.process.id)
        && is_none (reply_in (array_of s k).replies v.process.id))) ≡ true
    unanswered = implication _ _ (λ z. let w = at.unanswered z in all_three _ _ _ (knows z) w.0 w.1)

    answered : (not (gives_status (phase_of (bus_of k)) k.exchange.plan.next)
        || (is_answered (running_process (array_of s k) v.process.id)
        && is_some (reply_in (array_of s k).replies v.process.id))) ≡ true
    answered = implication _ _ (λ z. let w = at.answered z in and_from _ _ w.0 w.1)

-- ---- after the row

target_below : (s : ScenarioValue) (p : List Row) (n : Connection) → LinkStage s p n → n.target < 8
target_below s p n (when_selected h) = h.linked.target_below
target_below s p n (when_settling bsy atn msg cd io y h) = h.linked.target_below
target_below s p n (when_turning atn x msg cd h) = h.linked.target_below
target_below s p n (when_offering atn msg cd y h) = h.linked.target_below
target_below s p n (when_shaking msg cd io req ack atn x y h) = h.linked.target_below
target_below s p n (when_pulsing io req ack atn x y h a) = h.linked.target_below

-- Of the rows so far.
pub record HeardFacts (s : ScenarioValue) (q : List Row) : Type 0 where
  pub stood : Stood s q
  pub commands : CommandFacts s q
  pub named : NamedFacts s q
  pub told : InstructedFacts s q
  pub placed : ArePlaced s q

pub heard_in : (s : ScenarioValue) (q : List Row) (n : Connection) → Obeys s → HeardFacts s q → connection q ≡ Some n
    → (bus q).rst ≡ false → is_heard_in s (run_state s q) n (instructions s q) ≡ true
heard_in s q n o h con calm = λ x. told_all x && named x && served x && heard x
  where
    k : RunState
    k = run_state s q

    told : Instructed s k (instructions s q) n
    told = h.told n con calm

    books : CommandBooks s k n
    books = h.commands.books n con calm

    told_all : is_said s k n ≡ true
    told_all = said_at s q n (units_are s (obeys_fits s o)) (commands_are s o) h.stood con calm
        (target_below s q n (stage_of_connection s q n h.stood con calm))

    named : is_known_item k n ≡ true
    named = known_item s k n (h.stood.books.knows n (h.stood.plain.connection ∙ con)
        (ap (λ (l : LineSet). l.rst) h.stood.plain.bus ∙ calm)) (λ e. h.named n con calm e)

    served : is_served s k ≡ true
    served = and_from _ _ (served_item s k n books (λ e. (told.again e).1))
        (unless (is_opening k) _ (λ z. ap (λ (o : Option Process). is_some o) (served_process s k (told.served z))))

    heard : (is_opening k || is_heard_process s k n (instructions s q) (process_served s k) (phase_of (bus_of k)))
        ≡ true
    heard = unless (is_opening k) _ by
      where
        by : is_opening k ≡ false
            → is_heard_process s k n (instructions s q) (process_served s k) (phase_of (bus_of k)) ≡ true
        by z =
            let v = told.served z in
            ap (λ (o : Option Process). is_heard_process s k n (instructions s q) o (phase_of (bus_of k)))
            (served_process s k v)
            ∙ heard_process s k n (instructions s q) books told v z
            (h.placed n con calm z v.process (served_process s k v))

-- ---- the row

heard_turn : (s : ScenarioValue) (p : List Row) (row : Row) → Obeys s
    → IsPrompt s (row ∷ p) → Stood s p → BeginsPlaced s p row
    → is_heard_row s (run_state s p) (run_state s (row ∷ p)) (row_reading (run_state s p).story.bus_state row) ≡ true
heard_turn s p row o prompt was begins =
    unless d.change.after.rst _ (λ off. on (ap (λ (x : Change). x.after.rst) (sym c) ∙ off))
  where
    q : List Row
    q = row ∷ p

    k : RunState
    k = run_state s p

    d : RowReading
    d = row_reading k.story.bus_state row

    m : IsLeast (due s p) 8 row
    m = least_is s p row prompt.1

    c : d.change ≡ change_of p row
    c = change_plain s row p was.standing.devices m.inside

    next : d.next ≡ connection q
    next = λ i. connection_after (was.plain.connection i) (was.plain.call i) (c i) row

    first : (o : Option Connection) → connection q ≡ o → connection p ≡ None → (bus q).rst ≡ false
        → is_heard_on s k (run_state s q) d None o ≡ true
    first None e none off = refl
    first (Some n) e none off = begins n none e off

    after_reset : (n x : Connection) → connection p ≡ Some n → connection q ≡ Some x → (bus p).rst ≡ true
        → (bus q).rst ≡ false → is_heard_on s k (run_state s q) d (Some n) (Some x) ≡ true
    after_reset n x con e rst off = elim (row_kind s p row x o prompt was e off) [
      | begins_now none f ↦ none_some n (sym none ∙ con)
      | goes_now again calm ↦ wrong (sym rst ∙ calm)
    ]

    under : (n : Connection) (o : Option Connection) → connection q ≡ o → connection p ≡ Some n → (bus p).rst ≡ true
        → (bus q).rst ≡ false → is_heard_on s k (run_state s q) d (Some n) o ≡ true
    under n None e con rst off = (λ i. (ap (λ (x : Change). x.before.rst) c ∙ rst) i || is_true_end s k n)
    under n (Some x) e con rst off = after_reset n x con e rst off

    going : (n : Connection) (r : Bool) → (bus p).rst ≡ r → connection p ≡ Some n → (bus q).rst ≡ false
        → is_heard_on s k (run_state s q) d (Some n) d.next ≡ true
    going n true rst con off =
        ap (is_heard_on s k (run_state s q) d (Some n)) next ∙ under n (connection q) refl con rst off
    going n false rst con off = heard_goes s p row n o prompt was m.inside
        (target_below s p n (stage_of_connection s p n was con rst)) con rst off

    go : (o : Option Connection) → connection p ≡ o → (bus q).rst ≡ false
        → is_heard_on s k (run_state s q) d o d.next ≡ true
    go None none off = ap (is_heard_on s k (run_state s q) d None) next ∙ first (connection q) refl none off
    go (Some n) con off = going n (bus p).rst refl con off

    on : (bus q).rst ≡ false → is_heard_on s k (run_state s q) d k.story.bus_state.connection d.next ≡ true
    on off = ap (λ (x : Option Connection). is_heard_on s k (run_state s q) d x d.next) was.plain.connection
        ∙ go (connection p) refl off

pub heard_row : (s : ScenarioValue) (p : List Row) (row : Row) → Obeys s
    → IsPrompt s (row ∷ p) → Stood s p → BeginsPlaced s p row → HeardFacts s (row ∷ p)
    → is_heard_after s (run_state s p) (run_state s (row ∷ p)) (row_reading (run_state s p).story.bus_state row)
    (instructions s (row ∷ p)) ≡ true
heard_row s p row o prompt was begins h = and_from _ _ (heard_turn s p row o prompt was begins)
    (ap (λ (x : Option Connection). is_heard s j x (instructions s q)) next ∙ go (connection q) refl)
  where
    q : List Row
    q = row ∷ p

    j : RunState
    j = run_state s q

    k : RunState
    k = run_state s p

    m : IsLeast (due s p) 8 row
    m = least_is s p row prompt.1

    next : (row_reading k.story.bus_state row).next ≡ connection q
    next = λ i. connection_after (was.plain.connection i) (was.plain.call i)
        (change_plain s row p was.standing.devices m.inside i) row

    go : (o : Option Connection) → connection q ≡ o → is_heard s j o (instructions s q) ≡ true
    go None e = refl
    go (Some n) e = unless (bus_of j).rst _
        (λ off. heard_in s q n o h e (ap (λ (l : LineSet). l.rst) (sym h.stood.plain.bus) ∙ off))
