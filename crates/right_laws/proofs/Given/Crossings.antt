-- As a byte of data crosses, the process that is served would end GOOD; and in DATA IN the byte is that at its data
-- pointer, where this stands as far in the run as bytes were asked for (6.1.5.1, 6.6.20).
use Rattle.right_laws.proofs
use proofs.Names.{ℕ, ◌+◌, ◌≡◌, ◌≤◌, ◌<◌, arith, Bool, true, false, not, ◌&&◌, ◌==◌, ◌%◌, ◌∙◌, List, [], ◌∷◌, length}
use proofs.Names.{Option, Some, None, refl, sym, ap, subst, nat_tests, if◌then◌else◌, is_some, slice_index_or, wrong}
use proofs.Names.{wrong', plus_none, ProcId, byte_back, change_of, rises, LineSet, is_data, call, connection}
use proofs.Names.{connection_after, receiver_in, receiver_of, bus, Row, Change, Connection, handshakes, GOOD}
use proofs.Names.{ScenarioValue, Obeys, Policy, reply_in, Reply, Process, row_reading, policy_of, run_at, run_length}
use proofs.Names.{begun, phase_of, data_byte, phase_byte, run_length_if, Phase, Task, target_def_of, progress_in}
use proofs.Names.{IsPrompt, RunState, array_of, bus_of, carried_here, process_item, process_served, run_state}
use proofs.Names.{serving_of, is_writing, given_if, moved_count, reply_now, task_if, task_with, obeys_fits, seats_are}
use proofs.Names.{process_id, GoesOn, change_plain, least_is, run_count, byte_values, risen, by_bool, is_directed}
use proofs.Names.{writes_of, writes_out, AreCounted, CountFacts, pulses_here, out_step, rise_of, byte_within, GivesNext}
use proofs.{Names.{GivesAtCrossing, PointsAtRun, PointsAtCrossing, AllStandIn}, Offers.Facts.{DataOfferFacts}}
use proofs.{Offers.{Facts.{data_in_carries}, Steps.{is_data_in, data_at}}, Ran.Crossings.{GoesSo, crossing_goes}}
use proofs.Ran.{Crossings.{known_served}, Facts.{Known}}

-- ---- what moves

good_of : (c : Process) (r : Reply) (x : ℕ) → is_writing c ≡ true → x < moved_count c r → r.status ≡ GOOD
good_of c r x w h =
    by_bool (r.status == GOOD)
    (λ e. grind (arith, nat_tests))
    (λ e. none (moved_count c r) (λ i. length (if w i then (if e i then c.sent else []) else r.bytes)) h)
  where
    none : (m : ℕ) → m ≡ 0 → x < m → r.status ≡ GOOD
    none m e f = absurd omega (arith, e, f)

few_of : (c : Process) (r : Reply) → is_writing c ≡ false → moved_count c r ≤ length r.bytes
few_of c r w = go (r.status == GOOD) (is_writing c) w
  where
    go : (g b : Bool) → b ≡ false → length (if b then (if g then c.sent else []) else r.bytes) ≤ length r.bytes
    go g true e = wrong e
    go g false e = omega arith

less : (a b c d : ℕ) → a ≡ b → b < c → c ≤ d → a < d
less a b c d e f g = omega (arith, e, f, g)

reads_in : (io : Bool) (c : Process) → is_directed io (writes_of (Some c)) ≡ true → is_writing c ≡ false → io ≡ true
reads_in true c e w = refl
reads_in false c e w = wrong' (sym w ∙ e)

-- ---- lines

pub data_phase : (b : LineSet) → is_data b ≡ true → phase_of b ≡ (if b.io then Phase.DataIn else Phase.DataOut)
data_phase b e = go b.msg b.cd refl refl e
  where
    go : (m d : Bool) → b.msg ≡ m → b.cd ≡ d → (not m && not d) ≡ true
        → phase_of b ≡ (if b.io then Phase.DataIn else Phase.DataOut)
    go true d x y z = wrong' z
    go false true x y z = wrong' z
    go false false x y z = λ i. if x i then (if b.io then Phase.MessageIn else Phase.MessageOut)
        else if y i then (if b.io then Phase.Status else Phase.Command)
        else if b.io then Phase.DataIn else Phase.DataOut

data_in_lines : (b : LineSet) → is_data b ≡ true → b.io ≡ true → is_data_in b ≡ true
data_in_lines b e f = go b.msg b.cd b.io e f
  where
    go : (m d i : Bool) → (not m && not d) ≡ true → i ≡ true → (not m && not d && i) ≡ true
    go true d i z w = wrong' z
    go false true i z w = wrong' z
    go false false i z w = w

pub req_rises : (n : Connection) (c : Change) → c.before.io ≡ true → is_some (receiver_in n c) ≡ true
    → rises c.before.req c.after.req ≡ true
req_rises n c io e = go (rises c.before.req c.after.req)
    (sym (ap (λ (q : Bool). is_some (if q then (if rises c.before.req c.after.req then Some n.initiator else None)
    else (if rises c.before.ack c.after.ack then Some n.target else None))) io) ∙ e)
  where
    go : (q : Bool) → is_some (let o : Option ℕ = if q then Some n.initiator else None in o) ≡ true → q ≡ true
    go true z = refl
    go false z = wrong' z

-- ---- a byte crosses

pub gives_crossing : (s : ScenarioValue) (p : List Row) (row : Row) → Obeys s → IsPrompt s (row ∷ p) → Known s p row
    → DataOfferFacts s p → CountFacts s p → AllStandIn (run_state s p) → PointsAtCrossing s (run_state s p) row
    → GivesAtCrossing s (run_state s p) row
gives_crossing s p row o prompt h offers counted stands points l id q link item own crosses moves =
    by (crossing_goes s k row h.next.row_is crosses)
  where
    k : RunState
    k = run_state s p

    lt : row.dev < 8
    lt = (least_is s p row prompt.1).inside

    now : Reply
    now = reply_now (array_of s k) q

    t : Task
    t = task_with (array_of s k) (progress_in k.progress q.id) q (carried_here k q.id) now
        (reply_in (array_of s k).replies q.id)

    change : (row_reading k.story.bus_state row).change ≡ change_of p row
    change = change_plain s row p h.was.standing.devices lt

    by : GoesSo s k row → GivesNext s k q id ((row_reading k.story.bus_state row).change.after.data_bits % 256)
    by w = by_bool (is_writing q) (λ e. writing e) (λ e. reading e)
      where
        n : Connection
        n = w.connection

        g : GoesOn s k row n w.change
        g = w.goes

        policy : Policy
        policy = policy_of (target_def_of s n.target)

        here : process_served s k ≡ Some q
        here = ap (process_item s) (known_served s k row n w.change l id h.was.books g link item) ∙ own

        lines : bus_of k ≡ (row_reading k.story.bus_state row).change.before
        lines = g.row_is.bus_is ∙ ap (λ (c : Change). c.before) (sym g.row_is.change_is)

        on : is_data (bus_of k) ≡ true
        on = ap is_data lines ∙ moves

        con : connection p ≡ Some n
        con = sym h.was.plain.connection ∙ g.row_is.connection_is

        off : (bus p).rst ≡ false
        off = ap (λ (b : LineSet). b.rst) (sym h.was.plain.bus) ∙ g.calm

        whole : change_of p row ≡ w.change
        whole = sym change ∙ g.row_is.change_is

        calm : (bus (row ∷ p)).rst ≡ false
        calm = ap (λ (c : Change). c.after.rst) whole ∙ g.row_is.calm

        after : connection (row ∷ p) ≡ Some n
        after = (λ i. connection_after (con i) (call p) (whole i) row)
            ∙ ap (λ (b : Bool). if b then Some n else None) g.row_is.stands

        directed : is_directed (bus_of k).io (writes_of (Some q)) ≡ true
        directed = sym (ap (λ (x : Option Process). is_directed (bus_of k).io (writes_of x)) here)
            ∙ (h.was.planned n con off).serves (g.begun crosses) on

        some : is_some (receiver_in n (change_of p row)) ≡ true
        some = (λ i. is_some (receiver_of (sym g.row_is.connection_is i) (sym change i))) ∙ crosses

        reading : is_writing q ≡ false
            → GivesNext s k q id ((row_reading k.story.bus_state row).change.after.data_bits % 256)
        reading reads = record {
          good = λ z. wrong' (sym reads ∙ z);
          byte_is = λ r. byte;
          active_in = λ r. (stands.each id).active_in;
          within = λ r. less (carried_here k id).moved.active ((run_at policy t t.runs).start + k.handshakes.requests)
              t.moved (length now.bytes) active inside (few_of q now reads);
        }
          where
            io : (bus_of k).io ≡ true
            io = reads_in (bus_of k).io q directed reads

            io_p : (bus p).io ≡ true
            io_p = ap (λ (b : LineSet). b.io) (sym h.was.plain.bus) ∙ io

            phase : phase_of (bus_of k) ≡ Phase.DataIn
            phase = data_phase (bus_of k) on ∙ ap (λ (x : Bool). if x then Phase.DataIn else Phase.DataOut) io

            at : PointsAtRun s k n q t
            at = points n q t g.row_is.connection_is here (ap (task_if s k) here) reads crosses phase

            active : (carried_here k id).moved.active ≡ (run_at policy t t.runs).start + k.handshakes.requests
            active = ap (λ (x : ProcId). (carried_here k x).moved.active) (sym (process_id s id q own)) ∙ at.active_is

            inside : (run_at policy t t.runs).start + k.handshakes.requests < t.moved
            inside = byte_within policy t k.handshakes.requests at.more

            small : data_at s p n < 256
            small = subst (λ (x : ℕ). x < 256) (λ i. phase_byte (serving_of s k n.target)
                (phase i) k.exchange.plan.messages 0 (h.was.plain.handshakes i).requests)
                (byte_values s p n o (seats_are s (obeys_fits s o)) h.was.standing.devices).offered

            due : data_at s p n ≡ slice_index_or now.bytes ((run_at policy t t.runs).start + k.handshakes.requests) 0
            due = (λ i. data_byte policy (task_if s k (here i))
                (given_if s k (here i)) 0 (sym h.was.plain.handshakes i).requests)
                ∙ ap (λ (x : ℕ). slice_index_or now.bytes ((run_at policy t x).start + k.handshakes.requests) 0)
                (plus_none t.runs)

            byte : (row_reading k.story.bus_state row).change.after.data_bits % 256
                ≡ slice_index_or now.bytes (carried_here k id).moved.active 0
            byte = ap (λ (c : Change). c.after.data_bits % 256) change
                ∙ ap (λ (x : ℕ). x % 256) (data_in_carries s p row n o prompt h.was h.next offers con off after calm
                (data_in_lines (bus p) (ap is_data (sym h.was.plain.bus) ∙ on) io_p)
                (req_rises n (change_of p row) io_p some)).byte_is
                ∙ byte_back (data_at s p n) small ∙ due ∙ ap (λ (x : ℕ). slice_index_or now.bytes x 0) (sym active)

        writing : is_writing q ≡ true
            → GivesNext s k q id ((row_reading k.story.bus_state row).change.after.data_bits % 256)
        writing writes = record {
          good = λ z. good_of q now ((run_at policy t t.runs).start + (handshakes p).answers) writes
              (byte_within policy t (handshakes p).answers
              (subst (λ (x : ℕ). (handshakes p).answers < x) run (answered (pulses_here p) refl)));
          byte_is = λ r. wrong (sym writes ∙ r);
          active_in = λ r. wrong (sym writes ∙ r);
          within = λ r. wrong (sym writes ∙ r);
        }
          where
            io : (bus_of k).io ≡ false
            io = writes_out (bus_of k).io q directed writes

            io_p : (bus p).io ≡ false
            io_p = ap (λ (b : LineSet). b.io) (sym h.was.plain.bus) ∙ io

            phase : phase_of (bus p) ≡ Phase.DataOut
            phase = ap phase_of (sym h.was.plain.bus) ∙ data_phase (bus_of k) on
                ∙ ap (λ (x : Bool). if x then Phase.DataIn else Phase.DataOut) io

            b : begun p ≡ true
            b = sym h.was.plain.begun ∙ g.begun crosses

            counts : AreCounted (handshakes p) (bus p) (pulses_here p) (run_count s p n)
            counts = counted.counts n con off b phase

            run : run_count s p n ≡ run_length policy t
            run = ap (run_length_if policy) (ap (task_if s k) here)

            rose : rises (change_of p row).before.ack (change_of p row).after.ack ≡ true
            rose = rise_of n (change_of p row) io_p some

            answered : (v : Bool) → pulses_here p ≡ v → (handshakes p).answers < run_count s p n
            answered true u =
                let more = ((out_step s p row n prompt h.was con off calm b phase after).step.answers rose).1 u in
                let few = counts.pulses u in
                omega (arith, more, few)
            answered false u =
                (counts.waits u (((out_step s p row n prompt h.was con off calm b phase after).step.answers rose).0 u)
                (risen (bus p).ack (bus (row ∷ p)).ack rose)).0
