-- In COMMAND fewer than 12 bytes are asked for: while the block is not whole one follows, and a block has at most ten
-- (7.2).
use Rattle.measure_laws.proofs
use proofs.Names.{ℕ, ◌≡◌, ◌≤◌, ◌<◌, ◌∙◌, Bool, true, false, List, length, refl, sym, ap, subst, arith, Option, Some}
use proofs.Names.{None, ◌&&◌, eqb-true, if◌then◌else◌, not, nat_lt, slice_index, wrong', and_second, ProcId, LineSet}
use proofs.Names.{bus, Row, Connection, handshakes, has_group_len, is_len, dialogue, Dialogue, CommandBytes}
use proofs.Names.{ScenarioValue, Obeys, Process, process_of, phase_of, has_whole_block, Phase, IsPrompt, carried_here}
use proofs.Names.{run_state, task_if, task_of, follows_block, EndLines, offering_with, Shaking, ends, commands_are}
use proofs.{Names.{same_process, served_process, StandsIn, TakesBlock, pulsed_as, whole}, Balances.Facts.{all_answered}}
use proofs.Words.Commands.{taken}
use Rattle.progress_laws.specs.book_laws.proofs.Carried.Commands.{own_of}

-- A block that is as long as its group says has at most ten bytes.
abbrev group_of : Bool → Bool → Option ℕ
group_of six ten = if six then Some 6 else if ten then Some 10 else None

short_group : (six ten : Bool) (m : ℕ) → is_len (group_of six ten) m ≡ true → m ≤ 10
short_group true ten m e = let same : 6 ≡ m = eqb-true 6 m e in omega (arith, same)
short_group false true m e = let same : 10 ≡ m = eqb-true 10 m e in omega (arith, same)
short_group false false m e = absurd cc

group_short : (block : List ℕ) → has_group_len block ≡ true → length block ≤ 10
group_short block e =
    short_group (nat_lt (slice_index block 0) 0x20) (nat_lt (slice_index block 0) 0x40) (length block) e

flip : (q : Bool) → not q ≡ true → q ≡ false
flip true z = wrong' z
flip false z = refl

pub takes_few : (s : ScenarioValue) (p : List Row) (n : Connection) (atn : Bool) (y : ℕ)
    → Obeys s → IsPrompt s p → Shaking p n false true false false false atn 0 y
    → (offering_with s p n true (ends false false atn 0 false true false false y)).follows ≡ true
    → (handshakes p).requests < 12
takes_few s p n atn y o prompt h follows =
    let w = whole s p o prompt in
    let k = run_state s p in
    let pl = w.stood.plain in
    let e : EndLines = ends false false atn 0 false true false false y in
    let con = h.linked.stands.connection_is in
    let on = h.linked.stands.bus_is in
    let calm : (bus p).rst ≡ false = ap (λ (l : LineSet). l.rst) on in
    let books = w.commands.books n con calm in
    let takes : TakesBlock s k n = subst (λ (x : Phase). StandsIn s k n x)
    (ap phase_of (pl.bus ∙ on)) (books.begun (pl.begun ∙ h.phase.begun_is)) in
    let v = takes.0 in
    let same = same_process s k v in
    let open_is : has_group_len (carried_here k v.process.id).block ≡ false =
    sym (ap (λ (x : Option Process). has_whole_block (task_if s k x)) (served_process s k v))
    ∙ flip (has_whole_block (task_of s k))
    (and_second (not k.exchange.plan.struck) (not (has_whole_block (task_of s k))) follows) in
    let own = own_of s k v.process w.stood.books.carry (ap (process_of s) same ∙ v.process_is) in
    let whole_group = (commands_are s o).group k v.process (served_process s k v) in
    let less = follows_block
    (carried_here k v.process.id).block own.command.rest v.process.cdb own.command.block_is whole_group open_is in
    let short = group_short v.process.cdb whole_group in
    let count : (dialogue p).heard.now.command.count ≡ length (carried_here k v.process.id).block =
    ap (λ (d : Dialogue). d.heard.now.command.count) (sym pl.dialogue)
    ∙ ap (λ (c : CommandBytes). c.count) takes.1.counts
    ∙ ap (λ (x : ProcId). length (carried_here k x).block) (sym same) in
    let few = (taken s p o prompt n con calm h.phase.begun_is (record {
      msg = ap (λ (l : LineSet). l.msg) on;
      cd = ap (λ (l : LineSet). l.cd) on;
      io = ap (λ (l : LineSet). l.io) on;
    })).few in
    let all = all_answered s p o prompt n con calm h.phase.begun_is
    (sym (pulsed_as p n e h.linked) ∙ h.unpulsed) (ap (λ (l : LineSet). l.req && not l.ack) on) in
    omega (arith, less, short, count, few, all)
