-- As a phase is left: an abort has carried nothing but messages, a command that arrives has shown nothing, and with
-- COMMAND, STATUS and the end of data the process of a connection is known, and open.
use Rattle.transcript_laws.proofs
use proofs.Names.{ℕ, ◌≡◌, ◌∙◌, ◌⊎◌, inl, inr, Bool, true, false, not, ◌&&◌, List, [], ◌∷◌, Option, Some, None, refl}
use proofs.Names.{sym, ap, subst, ◌||◌, same_Some, is_some, if◌then◌else◌, wrong, wrong', or_true, or_none_first}
use proofs.Names.{ProcId, LineSet, changes_phase, is_command, is_data, is_message_in, is_message_out, is_fault}
use proofs.Names.{receiver_in, Change, Connection, Row, is_nil, ScenarioValue, reply_in, Reply, process_of}
use proofs.Names.{CarriedBytes, carried_of, is_whole_block, is_status_phase, Item, process, abort, has_item, Link}
use proofs.Names.{phase_of, Phase, IsPlain, RunState, or_start, bus_of, process_item, run_state, process_id}
use proofs.Names.{InConnection, in_connection, Knows, none_some, command_phase, by_bool, is_marked, IsUntouched}
use proofs.Names.{PlacedIf, PlacedIn, IsServed, over_after, link_still, unbegun_lines, Named, known, said, refused}
use proofs.{Names.{OpenedValue, is_open_item, arrives_first, leaves_talk, gets_known}, Opened.Bytes.{OpenedBytes}}
use proofs.Opened.{Bytes.{begun_turned}, Rows.{Going, plain_before, knows_before}}
use Rattle.due_model.specs.array_model.specs.Processes.{Process}
use Rattle.progress_laws.specs.row_laws.specs.Tells.{of_process, of_abort}

-- ---- items

pub not_both : {A : Type 0} (id : ProcId) (m : ℕ) → (let o : Option Item = Some (process id) in o) ≡ Some (abort m) → A
not_both id m e = absurd cc

-- The item that the initiator knows is the one that is served.
pub item_served : (s : ScenarioValue) (k : RunState) (n : Connection) (l : Link) (i : Item) → Knows s k n
    → k.story.link ≡ Some l → l.item ≡ Some i → k.served ≡ Some i
item_served s k n l i w el e = go w.item_is
  where
    same : w.link ≡ l
    same = same_Some w.link l (sym w.link_is ∙ el)

    go : (w.link.item ≡ k.served) ⊎ ((n.reselected ≡ true) × (w.link.item ≡ None)) → k.served ≡ Some i
    go (inl z) = sym z ∙ ap (λ (x : Link). x.item) same ∙ e
    go (inr z) = none_some i (sym z.1 ∙ ap (λ (x : Link). x.item) same ∙ e)

-- ---- an abort

pub record IsOutLines (b : LineSet) : Type 0 where
  pub command : is_command b ≡ false
  pub moves : (is_command b || is_data b) ≡ false
  pub status : is_status_phase b ≡ false

pub out_only : (b : LineSet) → phase_of b ≡ Phase.MessageOut → IsOutLines b
out_only b e = go b.msg b.cd b.io refl refl refl e
  where
    is_out : Phase → Bool
    is_out Phase.MessageOut = true
    is_out _ = false

    go : (m d i : Bool) → b.msg ≡ m → b.cd ≡ d → b.io ≡ i → (if m then (if i then Phase.MessageIn else Phase.MessageOut)
        else if d then (if i then Phase.Status else Phase.Command) else if i then Phase.DataIn else Phase.DataOut)
        ≡ Phase.MessageOut → IsOutLines b
    go true d true x y z f = wrong' (ap is_out f)
    go true d false x y z f = record {
      command = λ i. not (x i) && b.cd && not b.io;
      moves = λ i. (not (x i) && b.cd && not b.io) || (not (x i) && not b.cd);
      status = λ i. not (x i) && b.cd && b.io;
    }
    go false true true x y z f = wrong' (ap is_out f)
    go false true false x y z f = wrong' (ap is_out f)
    go false false true x y z f = wrong' (ap is_out f)
    go false false false x y z f = wrong' (ap is_out f)

-- The connection of an abort, which a selection began: before its phase, or in MESSAGE OUT.
pub record AbortStands (s : ScenarioValue) (p : List Row) (n : Connection) (o : OpenedValue) : Type 0 where
  pub selected : n.reselected ≡ false
  pub command : is_command (bus_of (run_state s p)) ≡ false
  pub bytes : o.bytes ≡ []

abort_stands :
    (s : ScenarioValue) (p : List Row) (row : Row) (n : Connection) (g : Going s p row n) (o : OpenedValue) (i : ℕ)
    → OpenedBytes (run_state s p) n o → (run_state s p).served ≡ Some (abort i) → AbortStands s p n o
abort_stands s p row n g o i h served = go (g.was.facts.served n g.stands g.calm)
  where
    k : RunState
    k = run_state s p

    pl : IsPlain s p k
    pl = plain_before s p row n g

    go : IsServed s k n → AbortStands s p n o
    go (of_process id pr e f) = not_both id i (sym e ∙ served)
    go (of_abort m a e f x y re phase) = by_bool k.exchange.begun (λ b. let lines = out_only (bus_of k) (phase b).0 in
        record { selected = re; command = lines.command; bytes = h.bytes lines.moves }) (λ b. record {
          selected = re;
          command = ap is_command pl.bus ∙ unbegun_lines s p n g.link.stage (sym pl.begun ∙ b);
          bytes = h.unbegun b;
        })

pub talk_leaves :
    (s : ScenarioValue) (p : List Row) (row : Row) (n : Connection) (g : Going s p row n) (o : OpenedValue) (l : Link)
    → OpenedBytes (run_state s p) n o → (run_state s p).story.link ≡ Some l → changes_phase g.going.change ≡ true
    → leaves_talk o g.going.change l.item ≡ true
talk_leaves s p row n g o l h el ep = go l.item refl
  where
    k : RunState
    k = run_state s p

    c : Change
    c = g.going.change

    after : (w : ℕ) → k.served ≡ Some (abort w) → is_status_phase c.after ≡ false
    after w served = by (g.now.facts.served n g.after g.calm_after)
      where
        i : InConnection s k row n c true (is_some (receiver_in n c)) (is_fault row.kind)
        i = in_connection s k row n c true (is_some (receiver_in n c))
            (is_fault row.kind) g.going.goes.row_is ep refl refl

        by : IsServed s (run_state s (row ∷ p)) n → is_status_phase c.after ≡ false
        by (of_process id pr e f) = not_both id w (sym e ∙ i.served_is ∙ served)
        by (of_abort m a e f x y re phase) = ap is_status_phase (sym i.bus_is)
            ∙ (out_only (bus_of (run_state s (row ∷ p))) (phase (begun_turned s p row n g ep)).0).status

    go : (x : Option Item) → l.item ≡ x → leaves_talk o c x ≡ true
    go None e = refl
    go (Some (process id)) e = refl
    go (Some (abort w)) e =
        let served = item_served s k n l (abort w) (knows_before s p row n g) el e in
        let st = abort_stands s p row n g o w h served in
        let command : is_command c.before ≡ false = ap is_command (sym g.going.goes.row_is.bus_is) ∙ st.command in
        λ i. not (command i) && not (after w served i) && is_nil (st.bytes i)

-- ---- a command that arrives

new_shows : (c : CarriedBytes) → is_marked c ≡ false → (not (is_whole_block c) || not c.shown) ≡ true
new_shows c e = ap (λ (q : Bool). not (is_whole_block c) || not q) (or_none_first c.shown c.refused e)
    ∙ or_true (not (is_whole_block c))

pub arrives : (s : ScenarioValue) (p : List Row) (row : Row) (n : Connection) (g : Going s p row n) (l : Link)
    → (run_state s p).story.link ≡ Some l → is_command g.going.change.before ≡ true
    → arrives_first (run_state s p).story l.item ≡ true
arrives s p row n g l el command = go l.item refl
  where
    k : RunState
    k = run_state s p

    pl : IsPlain s p k
    pl = plain_before s p row n g

    here : is_command (bus_of k) ≡ true
    here = ap is_command g.going.goes.row_is.bus_is ∙ command

    untouched : (id : ProcId) (pr : Process) → k.served ≡ Some (process id) → process_of s id ≡ Some pr
        → IsUntouched g.was.places.array pr.id
    untouched id pr served own = subst (λ (f : Phase). PlacedIn g.was.places.array pr k.exchange.plan k.handshakes
        (bus_of k).atn f) (command_phase (bus_of k) here) (subst (λ (q : Bool). PlacedIf q g.was.places.array
        pr k.exchange.plan k.handshakes (bus_of k).atn (phase_of (bus_of k))) (by_bool k.exchange.begun (λ b. b)
        (λ b. wrong' (sym (ap is_command pl.bus ∙ unbegun_lines s p n g.link.stage (sym pl.begun ∙ b)) ∙ here)))
        (g.was.places.placed n g.going.goes.row_is.connection_is g.going.goes.calm pr
        (ap (process_item s) served ∙ own)))

    go : (x : Option Item) → l.item ≡ x → arrives_first k.story x ≡ true
    go None e = refl
    go (Some (abort j)) e = refl
    go (Some (process id)) e =
        let served = item_served s k n l (process id) (knows_before s p row n g) el e in
        let pr = g.was.places.of_scenario id served in
        let none : reply_in g.was.places.array.replies id ≡ None =
        ap (λ (x : ProcId). reply_in g.was.places.array.replies x) (sym (process_id s id pr.0 pr.1))
        ∙ (untouched id pr.0 served pr.1).reply in
        new_shows (carried_of k.story.carried id)
        (sym (g.was.shown id) ∙ (λ i. is_some (reply_in (or_start s (g.was.places.array_is i)).replies id))
        ∙ ap (λ (x : Option Reply). is_some x) none)

-- ---- the process is known, and open

open_by : (s : ScenarioValue) (k : RunState) (n : Connection) (l : Link) → Knows s k n → k.story.link ≡ Some l
    → IsServed s k n → n.reselected ≡ true → ((i : Item) → k.served ≡ Some i → has_item k.story.sent.sent i ≡ true)
    → ((i : Item) → k.served ≡ Some i → has_item k.story.sent.over i ≡ false) → is_some l.item ≡ true
    → is_open_item k.story l.item ≡ true
open_by s k n l w el served re sent open_is = go l.item refl
  where
    abortive : (u : ℕ) → k.served ≡ Some (abort u) → IsServed s k n → is_open_item k.story (Some (abort u)) ≡ true
    abortive u e (of_process id pr f x) = not_both id u (sym f ∙ e)
    abortive u e (of_abort m a f x y z none phase) = wrong (sym re ∙ none)

    go : (x : Option Item) → l.item ≡ x → is_some x ≡ true → is_open_item k.story x ≡ true
    go None e z = wrong' z
    go (Some (process id)) e z =
        let is = item_served s k n l (process id) w el e in
        λ i. sent (process id) is i && not (open_is (process id) is i)
    go (Some (abort u)) e z = abortive u (item_served s k n l (abort u) w el e) served

-- Outside the message phases a process that was reselected is known.
pub named_known : (s : ScenarioValue) (k : RunState) (n : Connection) (l : Link) → Named s k n → k.story.link ≡ Some l
    → is_message_in (bus_of k) ≡ false → is_message_out (bus_of k) ≡ false → is_some l.item ≡ true
named_known s k n l (known m e some none) el no_in no_out =
    ap (λ (x : Link). is_some x.item) (same_Some l m (sym el ∙ e)) ∙ some
named_known s k n l (said p m naming here names all) el no_in no_out = wrong (sym here ∙ no_in)
named_known s k n l (refused p m naming here cause names) el no_in no_out = wrong (sym here ∙ no_out)

record NoMessage (b : LineSet) : Type 0 where
  into : is_message_in b ≡ false
  out : is_message_out b ≡ false

no_message : (b : LineSet) → b.msg ≡ false → NoMessage b
no_message b e = record { into = λ i. e i && b.cd && b.io; out = λ i. e i && b.cd && not b.io }

command_lines : (b : LineSet) → (is_command b || is_status_phase b) ≡ true → b.msg ≡ false
command_lines b e = go b.msg b.cd b.io e
  where
    go : (m d i : Bool) → ((not m && d && not i) || (not m && d && i)) ≡ true → m ≡ false
    go true d i z = wrong' z
    go false d i z = refl

moving_lines : (b : LineSet) → (is_command b || is_data b) ≡ true → b.msg ≡ false
moving_lines b e = go b.msg b.cd b.io e
  where
    go : (m d i : Bool) → ((not m && d && not i) || (not m && not d)) ≡ true → m ≡ false
    go true d i z = wrong' z
    go false d i z = refl

either : (a b c : Bool) → (a || b || c) ≡ true → ((a || b) ≡ true) ⊎ (c ≡ true)
either true b c e = inl refl
either false true c e = inl refl
either false false c e = inr e

pub known_open :
    (s : ScenarioValue) (p : List Row) (row : Row) (n : Connection) (g : Going s p row n) (o : OpenedValue) (l : Link)
    → OpenedBytes (run_state s p) n o → (run_state s p).story.link ≡ Some l → changes_phase g.going.change ≡ true
    → is_some (receiver_in n g.going.change) ≡ false → n.reselected ≡ true → gets_known o g.going.change ≡ true
    → is_open_item (run_state s p).story l.item ≡ true
known_open s p row n g o l h el ep er re gets =
    go (either (is_command c.after) (is_status_phase c.after) (not (is_nil o.bytes)) gets)
  where
    k : RunState
    k = run_state s p

    j : RunState
    j = run_state s (row ∷ p)

    c : Change
    c = g.going.change

    i : InConnection s k row n c true false (is_fault row.kind)
    i = in_connection s k row n c true false (is_fault row.kind) g.going.goes.row_is ep er refl

    link_after : j.story.link ≡ Some l
    link_after = link_still s k row n c l g.going.goes.row_is er el

    calm_next : (bus_of j).rst ≡ false
    calm_next = ap (λ (x : LineSet). x.rst) i.bus_is ∙ g.going.goes.row_is.calm

    of_link : is_some l.item ≡ true → ((x : Item) → k.served ≡ Some x → has_item k.story.sent.over x ≡ false)
        → is_open_item k.story l.item ≡ true
    of_link some open_is = open_by s k n l (knows_before s p row n g) el (g.was.facts.served n g.stands g.calm) re
        (λ x e. g.was.facts.items.items.served x e) open_is some

    open_before : NoMessage (bus_of k) → (x : Item) → k.served ≡ Some x → (q : Bool) → has_item k.story.sent.over x ≡ q
        → has_item k.story.sent.over x ≡ false
    open_before none x e false f = f
    open_before none x e true f =
        wrong (sym ((g.was.facts.items.items.talks n g.going.goes.row_is.connection_is g.going.goes.calm l el).over x e
        f).taken.here ∙ none.into)

    open_after : NoMessage (bus_of j) → (x : Item) → k.served ≡ Some x → (q : Bool) → has_item k.story.sent.over x ≡ q
        → has_item k.story.sent.over x ≡ false
    open_after none x e false f = f
    open_after none x e true f =
        let grown = (over_after s k row n c false l g.going.goes.row_is er el).grows.over x f in
        wrong (sym ((g.now.facts.items.items.talks n i.connection_is calm_next l link_after).over x
        (i.served_is ∙ e) grown).taken.here ∙ none.into)

    go : ((is_command c.after || is_status_phase c.after) ≡ true) ⊎ (not (is_nil o.bytes) ≡ true)
        → is_open_item k.story l.item ≡ true
    go (inl z) =
        let none = no_message (bus_of j) (ap (λ (x : LineSet). x.msg) i.bus_is ∙ command_lines c.after z) in
        of_link (named_known s j n l (g.now.facts.named n g.after g.calm_after re) link_after none.into none.out)
        (λ x e. open_after none x e (has_item k.story.sent.over x) refl)
    go (inr z) = by_bool (is_command (bus_of k) || is_data (bus_of k))
        (λ f. let none = no_message (bus_of k) (moving_lines (bus_of k) f) in
        of_link (named_known s k n l (g.was.facts.named n g.stands g.calm re) el none.into none.out)
        (λ x e. open_before none x e (has_item k.story.sent.over x) refl))
        (λ f. wrong' (sym (ap (λ (x : List ℕ). not (is_nil x)) (h.bytes f)) ∙ z))
