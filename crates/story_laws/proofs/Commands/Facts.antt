-- Row by row: bytes of COMMAND cross up to the length of the command, as the pointer of its process stands, and data
-- once it stands whole (rule 26; 6.1.6, 6.6.19, 7.2).
use Rattle.story_laws.proofs
use proofs.Names.{ℕ, ◌≡◌, ◌<◌, ◌⊎◌, inl, inr, Bool, true, false, not, ◌&&◌, ◌%◌, ◌∙◌, List, ◌∷◌, ◌++◌, length, Option}
use proofs.Names.{Some, None, refl, sym, ap, subst, arith, and_from, same_Some, if◌then◌else◌, is_some, slice_index_or}
use proofs.Names.{wrong, wrong', implication, ProcId, change_of, rises, implies, LineSet, is_command, is_data}
use proofs.Names.{connection, receiver_in, receiver_of, bus, Row, Change, Connection, has_group_len, dialogue, Dialogue}
use proofs.Names.{CommandBytes, may_take, is_none_or_all, seen_with, ScenarioValue, Process, process_of, process, Link}
use proofs.Names.{phase_of, Phase, RunState, item_of, process_item, process_here, process_served, carried_here}
use proofs.Names.{run_state, split_at, takes_byte, may_follow, block_follows, own_of, process_id, answers_own}
use proofs.Names.{CarriesOwn, Knows, Books, change_plain, has_whole_command, HasCommands, ConnectionRow, Goes, RowFacts}
use proofs.Names.{stays, ends_here, Stood, IsNoneOrAll, dialogue_of, block_count, Serves, TakesBlock, StandsIn}
use proofs.{Names.{CommandBooks}, Commands.Waits.{asked_now}}

-- ---- the block of the process

command_phase : (b : LineSet) → is_command b ≡ true → (phase_of b ≡ Phase.Command) × (b.io ≡ false)
command_phase b e = go b.msg b.cd b.io e
  where
    go : (m d i : Bool) → (not m && d && not i) ≡ true
        → ((if m then (if i then Phase.MessageIn else Phase.MessageOut)
        else if d then (if i then Phase.Status else Phase.Command) else if i then Phase.DataIn else Phase.DataOut)
        ≡ Phase.Command) × (i ≡ false)
    go true d i z = wrong' z
    go false false i z = wrong' z
    go false true true z = wrong' z
    go false true false z = (refl, refl)

data_counts : (s : ScenarioValue) (k : RunState) (n : Connection) (b : LineSet) → is_data b ≡ true
    → StandsIn s k n (phase_of b) → IsNoneOrAll (dialogue_of k).heard.now.command
data_counts s k n b e h = go b.msg b.cd b.io e h
  where
    go : (m d i : Bool) → (not m && not d) ≡ true
        → StandsIn s k n (if m then (if i then Phase.MessageIn else Phase.MessageOut)
        else if d then (if i then Phase.Status else Phase.Command) else if i then Phase.DataIn else Phase.DataOut)
        → IsNoneOrAll (dialogue_of k).heard.now.command
    go true d i z w = wrong' z
    go false true i z w = wrong' z
    go false false true z w = w
    go false false false z w = w

-- After a selection the initiator knows the process that is served.
known_here : (s : ScenarioValue) (k : RunState) (n : Connection) (v : Serves s k) → Knows s k n → n.reselected ≡ false
    → process_here s k ≡ Some v.process
known_here s k n v w e =
    ap (λ (l : Option Link). process_item s (item_of l)) w.link_is ∙ ap (process_item s) (item w.item_is) ∙ v.process_is
  where
    item : (w.link.item ≡ k.served) ⊎ ((n.reselected ≡ true) × (w.link.item ≡ None)) → w.link.item ≡ Some (process v.id)
    item (inl z) = z ∙ v.served_is
    item (inr z) = wrong (sym z.0 ∙ e)

pub served_process : (s : ScenarioValue) (k : RunState) (v : Serves s k) → process_served s k ≡ Some v.process
served_process s k v = ap (process_item s) v.served_is ∙ v.process_is

pub same_process : (s : ScenarioValue) (k : RunState) (v : Serves s k) → v.process.id ≡ v.id
same_process s k v = process_id s v.id v.process v.process_is

-- As a byte crosses in COMMAND the pointer stands in the block.
points_in : (s : ScenarioValue) (k : RunState) (v : Serves s k) → HasCommands s
    → Books s k → has_group_len (carried_here k v.id).block ≡ false
    → (carried_here k v.process.id).command.active < length v.process.cdb
points_in s k v gr books open_is =
    let same = same_process s k v in
    block_follows s k v.process books.carry (ap (process_of s) same ∙ v.process_is) (gr.group k v.process
    (served_process s k v)) (ap (λ (x : ProcId). has_group_len (carried_here k x).block) same ∙ open_is)

next_taken : (block rest cdb : List ℕ) (byte b : ℕ) (ys : List ℕ) → block ++ rest ≡ cdb → rest ≡ b ∷ ys → byte ≡ b
    → block ++ byte ∷ ys ≡ cdb
next_taken block rest cdb byte b ys e f g = (λ i. block ++ g i ∷ ys) ∙ ap (λ (r : List ℕ). block ++ r) (sym f) ∙ e

-- The byte that crosses is the next one of the block.
block_takes : (s : ScenarioValue) (k : RunState) (v : Serves s k) (byte : ℕ)
    → HasCommands s → Books s k → has_group_len (carried_here k v.id).block ≡ false
    → byte ≡ slice_index_or v.process.cdb (carried_here k v.process.id).command.active 0
    → may_take (block_count (carried_here k v.id).block) byte ≡ true
block_takes s k v byte gr books open_is e =
    let same = same_process s k v in
    let own : CarriesOwn (carried_here k v.process.id) v.process = own_of s k v.process books.carry
    (ap (process_of s) same ∙ v.process_is) in
    let lt = points_in s k v gr books open_is in
    let act = own.command.active_is in
    let sp = split_at
    (carried_here k v.process.id).block own.command.rest v.process.cdb own.command.block_is (omega arith) in
    let is : byte ≡ sp.0 = e ∙ takes_byte (carried_here k v.process.id) v.process.cdb sp.0 sp.1 own.command sp.2 in
    let whole = next_taken
    (carried_here k v.process.id).block own.command.rest v.process.cdb byte sp.0 sp.1 own.command.block_is sp.2 is in
    subst (λ (x : ProcId). may_take (block_count (carried_here k x).block) byte ≡ true) same (may_follow
    (carried_here k v.process.id).block byte sp.1 v.process.cdb whole (gr.group k v.process (served_process s k v)))

-- ---- what is asked of the row

-- A byte crosses in COMMAND: of a process that is served, whose block is not whole.
record CrossesCommand (s : ScenarioValue) (k : RunState) (n : Connection) : Type 0 where
  takes : TakesBlock s k n
  open_is : has_group_len (carried_here k takes.0.id).block ≡ false

crosses_command : (s : ScenarioValue) (p : List Row) (row : Row) (n : Connection) → Stood s p
    → CommandBooks s (run_state s p) n → ConnectionRow s p row n → (g : Goes s p row n) → g.change ≡ change_of p row
    → is_some (receiver_in n g.change) ≡ true → is_command (bus p) ≡ true → CrossesCommand s (run_state s p) n
crosses_command s p row n was h r g change cr here =
    let k = run_state s p in
    let pl = was.plain in
    let w = command_phase (bus p) here in
    let takes : TakesBlock s k n = subst (λ (x : Phase). StandsIn s k n x)
    (ap phase_of pl.bus ∙ w.0) (h.begun (pl.begun ∙ g.begun_is cr)) in
    let up = rises_of (bus p).io (rises (bus p).req (bus (row ∷ p)).req) (rises (bus p).ack (bus (row ∷ p)).ack) w.1
    (sym (ap (λ (c : Change). is_some (receiver_in n c)) change) ∙ cr) in
    let on = asked_now s p row n r.link here up in
    record {
      takes = takes;
      open_is = takes.1.asked (ap (λ (l : LineSet). l.req) pl.bus ∙ on.0) (ap (λ (l : LineSet). l.ack) pl.bus ∙ on.1);
    }
  where
    rises_of : (io a b : Bool) → io ≡ false
        → is_some (if io then (if a then Some n.initiator else None) else if b then Some n.target else None) ≡ true
        → b ≡ true
    rises_of true a b e z = wrong e
    rises_of false a true e z = refl
    rises_of false a false e z = wrong' z

pub pointer_in : (s : ScenarioValue) (p : List Row) (row : Row) (n : Connection) → HasCommands s → Stood s p
    → CommandBooks s (run_state s p) n → ConnectionRow s p row n → (g : Goes s p row n) → g.change ≡ change_of p row
    → (bus p).rst ≡ false → connection p ≡ Some n → is_some (receiver_in n g.change) ≡ true
    → is_command (bus p) ≡ true → (pr : Process) → process_here s (run_state s p) ≡ Some pr
    → (carried_here (run_state s p) pr.id).command.active < length pr.cdb
pointer_in s p row n gr was h r g change calm con cr here pr e =
    let k = run_state s p in
    let pl = was.plain in
    let x = crosses_command s p row n was h r g change cr here in
    let v = x.takes.0 in
    let knows = was.books.knows n (pl.connection ∙ con) (ap (λ (l : LineSet). l.rst) pl.bus ∙ calm) in
    subst (λ (y : Process). (carried_here k y.id).command.active < length y.cdb)
    (same_Some v.process pr (sym (known_here s k n v knows x.takes.1.selected) ∙ e))
    (points_in s k v gr was.books x.open_is)

pub command_kept : (s : ScenarioValue) (p : List Row) (row : Row) (n : Connection) → HasCommands s → Stood s p
    → row.dev < 8 → CommandBooks s (run_state s p) n → ConnectionRow s p row n → (bus p).rst ≡ false
    → connection p ≡ Some n → has_whole_command p row ≡ true
unfolding seen_with
command_kept s p row n gr was lt h r calm con = implication _ _
    (λ cr. go r.facts (sym (ap (λ (o : Option Connection). is_some (receiver_of o (change_of p row))) con) ∙ cr))
  where
    k : RunState
    k = run_state s p

    go : RowFacts s p row n → is_some (receiver_in n (change_of p row)) ≡ true
        → (implies (is_command (bus p)) (may_take (dialogue p).heard.now.command ((bus (row ∷ p)).data_bits % 256))
        && implies (is_data (bus p)) (is_none_or_all (dialogue p).heard.now.command)) ≡ true
    go (ends_here g) cr = wrong' (sym g.carries ∙ cr)
    go (stays g) cr =
        let change : g.change ≡ change_of p row = sym g.row_is.change_is
        ∙ change_plain s row p was.standing.devices lt in
        let crosses : is_some (receiver_in n g.change) ≡ true = ap (λ (c : Change). is_some (receiver_in n c)) change
        ∙ cr in
        and_from _ _ (implication _ _
        (λ here. let x = crosses_command s p row n was h r g change crosses here in let v = x.takes.0 in
        let knows = was.books.knows n (was.plain.connection ∙ con) (ap (λ (l : LineSet). l.rst) was.plain.bus ∙ calm) in
        let known = known_here s k n v knows x.takes.1.selected in
        let before : is_command g.change.before ≡ true = ap (λ (c : Change). is_command c.before) change ∙ here in
        let out : g.change.before.io ≡ false = ap (λ (c : Change). c.before.io) change
        ∙ (command_phase (bus p) here).1 in
        let byte = (answers_own s k n g.change v.process g.row_is.bus_is g.answered known crosses out).0 before in
        ap (λ (d : Dialogue). may_take d.heard.now.command ((bus (row ∷ p)).data_bits % 256)) (sym was.plain.dialogue)
        ∙ ap (λ (c : CommandBytes). may_take c ((bus (row ∷ p)).data_bits % 256)) x.takes.1.counts
        ∙ block_takes s k v ((bus (row ∷ p)).data_bits % 256) gr was.books x.open_is
        (ap (λ (c : Change). c.after.data_bits % 256) (sym change) ∙ byte)))
        (implication _ _ (λ here. ap (λ (d : Dialogue). is_none_or_all d.heard.now.command) (sym was.plain.dialogue)
        ∙ data_counts s k n (bus p) here (subst (λ (b : LineSet). StandsIn s k n (phase_of b)) was.plain.bus
        (h.begun (was.plain.begun ∙ g.begun_is crosses)))))
