-- What counts of COMMAND after any row of a prompt trace.
use Rattle.story_laws.proofs
use proofs.Names.{ℕ, ◌≡◌, ◌<◌, Bool, true, false, not, ◌&&◌, ◌||◌, ◌==◌, ◌∙◌, List, ◌∷◌, length, Option, Some, None}
use proofs.Names.{refl, sym, ap, subst, and_parts, if◌then◌else◌, is_some, wrong, wrong', or_other, or_none_second}
use proofs.Names.{AbortKind, ProcId, change_of, rises, LineSet, changes_phase, is_command, is_message_out, is_fault}
use proofs.Names.{connection, receiver_in, bus, Row, Change, Connection, Handshakes, has_group_len, ScenarioValue}
use proofs.Names.{process_of, Item, follows_by, phase_of, follows_in, Cause, Phase, run_state_plain, is_item_named}
use proofs.Names.{is_abort_named, is_opening_named, is_kind, is_unit, RunState, bus_of, carried_here, run_state}
use proofs.Names.{serving_of, leaving, is_message, is_command_phase, AreUnits, own_of, in_connection, opening_named}
use proofs.Names.{CarriesOwn, is_out_phase, IsItem, is_process, IsOver, RowKind, still, strikes, crosses, turns}
use proofs.Names.{IsRowIn, Speaks, Books, GoesOn, change_plain, HasCommands, out_lines, in_phase, is_out_next, unpulsed}
use proofs.Names.{ConnectionRow, stage_of_connection, Goes, Stood, NextStood, link_phase, Serves, TakesBlock, SaysFor}
use proofs.{Names.{StandsIn, CommandBooks, AnswersAtCommand}, Commands.Counts.{refusal_offers_none}}
use proofs.Commands.{Crossings.{small_block, Crosses, cross_keeps}, Facts.{served_process, same_process}}
use proofs.Commands.{Leavings.{HasHeardAll, IsLeft}, Stays.{WaitsThen, stay_keeps}, Turns.{same_blocks, Turns}}
use proofs.Commands.{Turns.{turn_keeps}, Waits.{WaitsBy, FollowsBy, unwhole, waits_on}}
use proofs.Complaints.Turns.{attended_for}
use Rattle.row_laws.specs.book_laws.specs.Items.{is_abort}

-- ---- MESSAGE OUT is left

-- No byte of it was struck.
pub out_unstruck : (s : ScenarioValue) (k : RunState) (n : Connection) → phase_of (bus_of k) ≡ Phase.MessageOut
    → IsOver s k n → k.exchange.plan.struck ≡ false
out_unstruck s k n e h = or_none_second (k.handshakes.answers == 0 || (bus_of k).atn) k.exchange.plan.struck
    (sym (ap (λ (q : Bool). follows_by (serving_of s k n.target) q (bus_of k) k.handshakes)
    (unpulsed k.exchange.begun (bus_of k) _ (ap is_message e))
    ∙ ap (follows_in (serving_of s k n.target) k.handshakes (bus_of k).atn) e) ∙ h.follows)

-- After the opening of a process it is served; no offer is heard with MESSAGE PARITY ERROR.
pub heard_all : (s : ScenarioValue) (k : RunState) (n : Connection) → AreUnits s → Speaks s k n
    → k.exchange.begun ≡ true → is_message_out (bus_of k) ≡ true → phase_of (bus_of k) ≡ Phase.MessageOut
    → k.story.bus_state.dialogue.is_last ≡ true → IsOver s k n → CommandBooks s k n → HasHeardAll s k
heard_all s k n u speaks b out phase last over h = record {
  serves = λ ec none.
      let stands : SaysFor s k n Cause.Selected = subst (λ (c : Cause). SaysFor s k n c) ec
      (subst (λ (f : Phase). StandsIn s k n f) phase (h.begun b)) in
      let item = h.serves stands.selected in
      by_item item.item item.served_is item.item_is none
      (or_other k.exchange.plan.struck (is_item_named s k.exchange.plan.said k.served) (out_unstruck s k n phase over)
      (sym (ap (is_opening_named s k.exchange.plan k.served) ec) ∙ opening_named s k n u speaks b out last));
  refusal = λ w. refusal_offers_none k.exchange.speech k.exchange.plan k.story.bus_state.dialogue
      (speaks.in_message_out b out).heard last w;
}
  where
    no_kind : (a : Option AbortKind) (what : AbortKind) → is_some a ≡ false → is_kind a what ≡ true → ⊥
    no_kind None what e z = wrong' z
    no_kind (Some x) what e z = wrong e

    by_item : (item : Item) → k.served ≡ Some item → IsItem s n.initiator item
        → is_some k.exchange.plan.said.aborts ≡ false → is_item_named s k.exchange.plan.said k.served ≡ true
        → Serves s k
    by_item _ e (is_process id f ep own) none named = record { id = id; served_is = e; process = f; process_is = ep }
    by_item _ e (is_abort x a ea own) none named = absurd (no_kind k.exchange.plan.said.aborts a.what none
        (and_parts (is_unit k.exchange.plan.said.unit a.unit) (is_kind k.exchange.plan.said.aborts a.what)
        (sym (ap (is_item_named s k.exchange.plan.said) e ∙ ap (is_abort_named k.exchange.plan.said) ea) ∙ named)).1)

-- ---- MESSAGE IN is left for MESSAGE OUT with ATN true

attended : (s : ScenarioValue) (k : RunState) (dev : ℕ) → k.exchange.begun ≡ true
    → phase_of (bus_of k) ≡ Phase.MessageIn → is_out_next (leaving s k dev).to ≡ true → (bus_of k).atn ≡ true
attended s k dev b e to = (attended_for s k dev b (ap is_out_phase e) to).attends

-- ---- in COMMAND

command_lines : (b : LineSet) → phase_of b ≡ Phase.Command → (is_command b ≡ true) × (b.io ≡ false)
command_lines b e = go b.msg b.cd b.io (ap is_command_phase e)
  where
    go : (m d i : Bool) → is_command_phase (if m then (if i then Phase.MessageIn else Phase.MessageOut)
        else if d then (if i then Phase.Status else Phase.Command) else if i then Phase.DataIn else Phase.DataOut)
        ≡ true → ((not m && d && not i) ≡ true) × (i ≡ false)
    go true d true z = wrong' z
    go true d false z = wrong' z
    go false true true z = wrong' z
    go false true false z = (refl, refl)
    go false false true z = wrong' z
    go false false false z = wrong' z

-- ACK does not rise where no byte crosses to the target.
none_crosses : (n : Connection) (c : Change) → c.before.io ≡ false → rises c.before.ack c.after.ack ≡ false
    → is_some (receiver_in n c) ≡ false
none_crosses n c io up = λ i. is_some (if io i then (if rises c.before.req c.after.req then Some n.initiator else None)
    else (if up i then Some n.target else None))

few_bytes : (s : ScenarioValue) (k : RunState) (n : Connection) → HasCommands s → Books s k
    → (h : TakesBlock s k n) → length (carried_here k h.0.id).block < 1000
few_bytes s k n gr books h =
    let v = h.0 in
    let same = same_process s k v in
    let own : CarriesOwn (carried_here k v.process.id) v.process = own_of s k v.process books.carry
    (ap (process_of s) same ∙ v.process_is) in
    subst (λ (x : ProcId). length (carried_here k x).block < 1000) same (small_block (carried_here k v.process.id).block
    own.command.rest v.process.cdb own.command.block_is (gr.group k v.process (served_process s k v)))

waits_then : (s : ScenarioValue) (p : List Row) (row : Row) (n : Connection) (c : Change)
    → Stood s p → Stood s (row ∷ p) → ConnectionRow s p row n → IsRowIn (run_state s p) row n c
    → c ≡ change_of p row → connection (row ∷ p) ≡ Some n → changes_phase c ≡ false
    → WaitsThen s (run_state s p) (run_state s (row ∷ p)) n (phase_of (bus_of (run_state s p)))
waits_then s p row n c was next r of change con ep e h =
    let k = run_state s p in
    let j = run_state s (row ∷ p) in
    let pl = was.plain in
    let ql = run_state_plain s (row ∷ p) next.standing.devices in
    let v = h.0 in
    let lines = command_lines (bus p) (ap phase_of (sym pl.bus) ∙ e) in
    let same = same_process s k v in
    let served : j.served ≡ k.served =
    (in_connection s k row n c false (is_some (receiver_in n c)) (is_fault row.kind) of ep refl refl).served_is in
    let kept : rises (bus p).ack (bus (row ∷ p)).ack ≡ false
    → (carried_here j v.id).block ≡ (carried_here k v.id).block =
    λ up. (same_blocks s k row n c of (none_crosses n c (ap (λ (x : Change). x.before.io) change ∙ lines.1)
    (ap (λ (x : Change). rises x.before.ack x.after.ack) change ∙ up)) served).block_is v.id in
    let follows : FollowsBy s p n (carried_here k v.id).block = λ atn msg cd io y z more. subst
    (λ (x : ProcId). has_group_len (carried_here k x).block ≡ false) same
    (unwhole s p n v.process atn msg cd io y (served_process s k v) z more) in
    let before : WaitsBy p (carried_here k v.id).block = record {
      fresh = λ a b. h.1.fresh (ap (λ (l : LineSet). l.req) pl.bus ∙ a)
          (ap (λ (x : Handshakes). x.requests) pl.handshakes ∙ b);
      asked = λ a b. h.1.asked (ap (λ (l : LineSet). l.req) pl.bus ∙ a) (ap (λ (l : LineSet). l.ack) pl.bus ∙ b);
    } in
    let after = waits_on s p row n (carried_here k v.id).block (carried_here j v.id).block r.link lines.0 con
    (ap changes_phase (sym change) ∙ ep) kept follows before in
    record {
      fresh = λ a b. after.fresh (ap (λ (l : LineSet). l.req) (sym ql.bus) ∙ a)
          (ap (λ (x : Handshakes). x.requests) (sym ql.handshakes) ∙ b);
      asked = λ a b. after.asked (ap (λ (l : LineSet). l.req) (sym ql.bus) ∙ a)
          (ap (λ (l : LineSet). l.ack) (sym ql.bus) ∙ b);
    }

-- ---- the row leaves a phase

pub turns_as : (s : ScenarioValue) (p : List Row) (row : Row) (n : Connection) → AreUnits s → Stood s p
    → NextStood s p row → row.dev < 8 → AnswersAtCommand (run_state s p) → CommandBooks s (run_state s p) n
    → (g : Goes s p row n) → GoesOn s (run_state s p) row n g.change → connection p ≡ Some n → (bus p).rst ≡ false
    → connection (row ∷ p) ≡ Some n → (bus (row ∷ p)).rst ≡ false → changes_phase g.change ≡ true
    → Turns s (run_state s p) n g.change
turns_as s p row n u was nx lt answers h g w con calm con' calm' = turn
  where
    k : RunState
    k = run_state s p

    c : Change
    c = g.change

    change : c ≡ change_of p row
    change = sym g.row_is.change_is ∙ change_plain s row p was.standing.devices lt

    here : k.story.bus_state.connection ≡ Some n
    here = was.plain.connection ∙ con

    quiet : (bus_of k).rst ≡ false
    quiet = ap (λ (l : LineSet). l.rst) was.plain.bus ∙ calm

    left : changes_phase c ≡ true → k.exchange.begun ≡ true → IsLeft s k (phase_of (bus_of k))
    left ep b =
        let over = g.over ep (sym was.plain.begun ∙ b) in
        let leaves = w.leaves (ap changes_phase g.row_is.change_is ∙ ep) in
        record {
          out = λ e. heard_all s k n u (was.books.speaks n here quiet) b (out_lines (bus_of k) e (λ z. (w.phase z).0)) e
              (leaves.out e) over h;
          some = λ e. leaves.some e;
          whole = λ e v struck. subst (λ (x : ProcId). has_group_len (carried_here k x).block ≡ true)
              (same_process s k v) ((leaves.command v.process (served_process s k v) e).1 struck);
        }

    turn : changes_phase c ≡ true → Turns s k n c
    turn ep = record {
      first = λ b. g.first ep (sym was.plain.begun ∙ b);
      whereto = λ b. g.whereto ep (sym was.plain.begun ∙ b);
      left = λ b. left ep b;
      known = λ m.
          let after : c.after ≡ bus (row ∷ p) = ap (λ (x : Change). x.after) change in
          ap (λ (l : LineSet). l.cd) after ∙ (link_phase s (row ∷ p) n
          (stage_of_connection s (row ∷ p) n nx.stood con' calm') (ap (λ (l : LineSet). l.msg) (sym after) ∙ m)).0;
      selected = λ b. ((was.books.speaks n here quiet).before_all b).cause_is;
      asks = λ out into struck.
          let phase = in_phase (bus_of k) into in
          let b = (w.phase (first (bus_of k).msg (bus_of k).cd (bus_of k).io into)).1 in
          answers into (attended s k n.target b phase
          (ap is_out_next (g.whereto ep (sym was.plain.begun ∙ b)) ∙ out_of c.after out)) struck;
    }
      where
        first : (m d i : Bool) → (m && d && i) ≡ true → m ≡ true
        first true d i z = refl
        first false d i z = wrong' z

        out_of : (b : LineSet) → is_message_out b ≡ true → is_out_next (Some (phase_of b)) ≡ true
        out_of b z = by b.msg b.cd b.io z
          where
            by : (m d i : Bool) → (m && d && not i) ≡ true
                → is_out_next (Some (if m then (if i then Phase.MessageIn else Phase.MessageOut)
                else if d then (if i then Phase.Status else Phase.Command)
                else if i then Phase.DataIn else Phase.DataOut)) ≡ true
            by true true true x = wrong' x
            by true true false x = refl
            by true false i x = wrong' x
            by false d i x = wrong' x

-- ---- a row of a connection

pub goes_keeps : (s : ScenarioValue) (p : List Row) (row : Row) (n : Connection) → AreUnits s → HasCommands s
    → Stood s p → NextStood s p row → row.dev < 8 → AnswersAtCommand (run_state s p) → CommandBooks s (run_state s p) n
    → ConnectionRow s p row n → (g : Goes s p row n) → GoesOn s (run_state s p) row n g.change
    → connection p ≡ Some n → (bus p).rst ≡ false → connection (row ∷ p) ≡ Some n → (bus (row ∷ p)).rst ≡ false
    → CommandBooks s (run_state s (row ∷ p)) n
goes_keeps s p row n u gr was nx lt answers h r g w con calm con' calm' = go w.row_is.kind
  where
    k : RunState
    k = run_state s p

    c : Change
    c = g.change

    change : c ≡ change_of p row
    change = sym g.row_is.change_is ∙ change_plain s row p was.standing.devices lt

    here : k.story.bus_state.connection ≡ Some n
    here = was.plain.connection ∙ con

    quiet : (bus_of k).rst ≡ false
    quiet = ap (λ (l : LineSet). l.rst) was.plain.bus ∙ calm

    none : receiver_in n c ≡ None → is_some (receiver_in n c) ≡ false
    none e = ap (λ (z : Option ℕ). is_some z) e

    waits : changes_phase c ≡ false → WaitsThen s k (run_state s (row ∷ p)) n (phase_of (bus_of k))
    waits ep = waits_then s p row n c was nx.stood r w.row_is change con' ep

    turn : changes_phase c ≡ true → Turns s k n c
    turn ep = turns_as s p row n u was nx lt answers h g w con calm con' calm' ep

    crossing : is_some (receiver_in n c) ≡ true → Crosses s k n c
    crossing cr = record {
      begun = was.plain.begun ∙ g.begun_is cr;
      phase = w.phase;
      speaks = was.books.speaks n here quiet;
      says = w.says;
      gives = was.books.gives n here quiet;
      given = w.gives;
      knows = was.books.knows n here quiet;
      few = λ x. few_bytes s k n gr was.books x;
    }

    go : RowKind row n c → CommandBooks s (run_state s (row ∷ p)) n
    go (still ef ep er) = stay_keeps s k row n c w.row_is ep er (waits ep) h
    go (strikes ef ep er) = stay_keeps s k row n c w.row_is ep er (waits ep) h
    go (crosses dev ef ep er) =
        let cr = ap (λ (z : Option ℕ). is_some z) er in
        cross_keeps s k row n c w.row_is ef ep cr (crossing cr) (waits ep) h
    go (turns ef ep er) =
        turn_keeps s k row n c w.row_is w.phase (was.books.gives n here quiet) ef ep (none er) (turn ep) h
