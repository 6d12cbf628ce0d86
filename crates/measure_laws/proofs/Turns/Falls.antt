-- The measure falls with a row that turns to another phase, none of the two being of data: the phases after it are a
-- phase less, and that pays for all that the new phase may ask for.
use Rattle.measure_laws.proofs
use proofs.Names.{inl, inr, ℕ, suc, ◌≡◌, ◌≤◌, ◌<◌, ◌⊎◌, ◌∙◌, Bool, true, false, ◌&&◌, List, ◌∷◌, length, Option, Some}
use proofs.Names.{None, refl, sym, ap, subst, arith, ◌+◌, ◌*◌, not, ◌||◌, ◌==◌, drop, if◌then◌else◌, is_some, wrong}
use proofs.Names.{wrong', plus_none, and_false, ProcId, rises, LineSet, changes_phase, is_data, is_message_out}
use proofs.Names.{is_fault, receiver_in, bus, Row, Change, Connection, Handshakes, no_handshakes, handshakes_after}
use proofs.Names.{answered_if, asked_if, ScenarioValue, Process, Item, abort, command_id, command_item, process}
use proofs.Names.{Answering, Offering, policy_of, Speech, bytes_of_messages, plan_anew, phase_entry, phase_leaving}
use proofs.Names.{phase_of, run_length_if, plan_in_message_out, Leaving, Phase, Plan, run_state_plain, target_def_of}
use proofs.Names.{ProcessProgress, progress_in, progress_with, RunState, bus_of, drives_of, process_served, leaving_of}
use proofs.Names.{progress_after, progress_by_leaving, run_state, answering_of, hearing_of, leaving, offering_of}
use proofs.Names.{pace_of, serving_of, task_of, InConnection, in_connection, reading_is, Knows, RowKind, reading_in}
use proofs.Names.{GoesOn, is_refusing, is_struck_phase, by_bool, Goes, over_after, same_runs, done_in_data, Whole}
use proofs.Names.{future_left, is_in_data, one_where, open_left, resets_left, serves_item, measure, bytes_if_begun}
use proofs.Names.{is_asked, phase_left, phases_in, phases_left, requests_by, requests_left, sense_bytes_left}
use proofs.Names.{struck_left, under_way, has_next_byte, for_byte, for_phase, for_reselection}
use proofs.{Connections.BeginFalls.{calm_resets, few_under_way}, Lines.Futures.{future_falls, open_of}}
use proofs.{Lines.Lowers.{lowers_same}, Phases.Still.{shape}, Turns.Table.{left_in, left_of, left_to}}
use proofs.Words.Lengths.{few_messages, few_words}
use Rattle.progress_laws.specs.book_laws.specs.Rows as rows

-- A row of a connection that turns to another phase, RST being false before it.
pub record TurnRow (s : ScenarioValue) (p : List Row) (row : Row) (n : Connection) (c : Change) : Type 0 where
  pub was : Whole s p
  pub goes : GoesOn s (run_state s p) row n c
  pub lines : Goes s p row n
  pub lines_are : lines.change ≡ c
  pub turned : changes_phase c ≡ true
  pub below : row.dev < 8
  pub off : (bus p).rst ≡ false

pub turn_kind : (row : Row) (n : Connection) (c : Change) → RowKind row n c → changes_phase c ≡ true
    → (is_fault row.kind ≡ false) × (receiver_in n c ≡ None)
turn_kind row n c (rows.still f e r) t = wrong (sym t ∙ e)
turn_kind row n c (rows.strikes f e r) t = wrong (sym t ∙ e)
turn_kind row n c (rows.crosses d f e r) t = wrong (sym t ∙ e)
turn_kind row n c (rows.turns f e r) t = (f, r)

pub no_data_in : (l : LineSet) → is_data l ≡ false → phase_of l ≡ Phase.DataIn → ⊥
no_data_in l e f = go l.msg l.cd l.io e f
  where
    go : (m d i : Bool) → (not m && not d) ≡ false → (if m then (if i then Phase.MessageIn else Phase.MessageOut)
        else if d then (if i then Phase.Status else Phase.Command) else if i then Phase.DataIn else Phase.DataOut)
        ≡ Phase.DataIn → ⊥
    go true d true z f = absurd cc
    go true d false z f = absurd cc
    go false true true z f = absurd cc
    go false true false z f = absurd cc
    go false false i z f = wrong' (sym z)

pub no_data_out : (l : LineSet) → is_data l ≡ false → phase_of l ≡ Phase.DataOut → ⊥
no_data_out l e f = go l.msg l.cd l.io e f
  where
    go : (m d i : Bool) → (not m && not d) ≡ false → (if m then (if i then Phase.MessageIn else Phase.MessageOut)
        else if d then (if i then Phase.Status else Phase.Command) else if i then Phase.DataIn else Phase.DataOut)
        ≡ Phase.DataOut → ⊥
    go true d true z f = absurd cc
    go true d false z f = absurd cc
    go false true true z f = absurd cc
    go false true false z f = absurd cc
    go false false i z f = wrong' (sym z)

-- ---- what a phase may ask for as it begins

at_most_one : (q : Bool) → one_where q ≤ 1
at_most_one true = omega arith
at_most_one false = omega arith

pub fresh_way : (pulsed : Bool) (b : LineSet) (h : Handshakes) (t i : LineSet) (g : Offering) (a : Answering)
    → h ≡ no_handshakes → under_way pulsed b h t i g a ≤ 10
fresh_way false b h t i g a e = few_under_way false b h t i g a refl
fresh_way true b h t i g a e = subst (λ (x : Handshakes). under_way true b x t i g a ≤ 10) (sym e)
    (let w2 = at_most_one t.req in
    let w3 = at_most_one i.ack in
    let w4 = at_most_one (not (i.data_bits == 0)) in
    let w5 = at_most_one i.bsy in
    let w6 = at_most_one (true && b.io && t.data_bits == 0) in
    let w7 = at_most_one (has_next_byte true b no_handshakes t g) in
    omega arith)

few_requests : (struck asked : Bool) (h : Handshakes) (y : Speech) (bytes run : ℕ) (phase : Phase)
    → h ≡ no_handshakes → length y.words ≤ 8 → bytes ≤ 5 → (phase ≡ Phase.DataIn → ⊥) → (phase ≡ Phase.DataOut → ⊥)
    → requests_by struck asked h y bytes run phase ≤ 12
few_requests struck asked h y bytes run Phase.MessageOut e w b fi fo =
    subst (λ (x : Handshakes). requests_by struck asked x y bytes run Phase.MessageOut ≤ 12) (sym e) (omega arith)
few_requests struck asked h y bytes run Phase.DataIn e w b fi fo = absurd (fi refl)
few_requests struck asked h y bytes run Phase.DataOut e w b fi fo = absurd (fo refl)
few_requests struck asked h y bytes run _ e w b fi fo = omega arith

begun_sum : (b : Bool) (r u : ℕ) → r ≤ 12 → u ≤ 10 → bytes_if_begun b r + u ≤ 106
begun_sum true r u h g = omega arith
begun_sum false r u h g = omega arith

-- ---- what the row makes of what is kept

pub turn_in : (s : ScenarioValue) (p : List Row) (row : Row) (n : Connection) (c : Change) → TurnRow s p row n c
    → InConnection s (run_state s p) row n c true false false
turn_in s p row n c h =
    let w = turn_kind row n c h.goes.row_is.kind h.turned in
    in_connection s (run_state s p) row n c true false false h.goes.row_is h.turned
    (ap (λ (x : Option ℕ). is_some x) w.1) w.0

pub turn_handshakes : (s : ScenarioValue) (p : List Row) (row : Row) (n : Connection) (c : Change) → TurnRow s p row n c
    → (run_state s (row ∷ p)).handshakes ≡ no_handshakes
turn_handshakes s p row n c h =
    let k = run_state s p in
    let w = turn_kind row n c h.goes.row_is.kind h.turned in
    (turn_in s p row n c h).handshakes_is ∙ (λ i. handshakes_after (w.0 i) (Some n) c row.time k.handshakes)
    ∙ (λ i. if h.turned i then no_handshakes else answered_if (rises c.before.ack c.after.ack) row.time
    (asked_if (rises c.before.req c.after.req) row.time k.handshakes))

-- What is left of the new phase.
pub turn_phase : (s : ScenarioValue) (p : List Row) (row : Row) (n : Connection) (c : Change) → TurnRow s p row n c
    → is_data c.after ≡ false → phase_left s (run_state s (row ∷ p)) n ≤ 106
turn_phase s p row n c h e =
    let j = run_state s (row ∷ p) in
    let on = (turn_in s p row n c h).bus_is in
    let here : is_data (bus_of j) ≡ false = ap is_data on ∙ e in
    let none = turn_handshakes s p row n c h in
    begun_sum j.exchange.begun (requests_left s j n.target)
    (under_way (pace_of s j n.target).pulsed (bus_of j) j.handshakes (drives_of j n.target) (drives_of j n.initiator)
    (offering_of s j n.target) (answering_of s j n.initiator)) (few_requests j.exchange.plan.struck
    (is_asked (bus_of j)) j.handshakes j.exchange.speech (length (bytes_of_messages j.exchange.plan.messages))
    (run_length_if (policy_of (target_def_of s n.target)) (task_of s j)) (phase_of (bus_of j)) none
    (few_words s (row ∷ p)) (few_messages s (row ∷ p)) (no_data_in (bus_of j) here) (no_data_out (bus_of j) here))
    (fresh_way (pace_of s j n.target).pulsed (bus_of j) j.handshakes (drives_of j n.target) (drives_of j n.initiator)
    (offering_of s j n.target) (answering_of s j n.initiator) none)

entered : (r : Bool) (a : Plan) (l : Leaving) (phase : Phase) → (phase ≡ Phase.MessageOut → ⊥)
    → phases_in r (record (plan_anew a) { messages = l.messages; next = l.next }) phase ≡ left_in l phase
entered r a l Phase.MessageOut z = absurd (z refl)
entered r a l _ z = refl

not_out : (l : LineSet) → is_message_out l ≡ false → (l.msg ≡ true → l.cd ≡ true) → phase_of l ≡ Phase.MessageOut → ⊥
not_out l e known f = go l.msg refl l.cd refl l.io refl
  where
    go : (m : Bool) → l.msg ≡ m → (d : Bool) → l.cd ≡ d → (i : Bool) → l.io ≡ i → ⊥
    go true x true y true z =
        let w = sym f ∙ (λ t. if x t then (if z t then Phase.MessageIn else Phase.MessageOut)
        else if y t then (if z t then Phase.Status else Phase.Command)
        else if z t then Phase.DataIn else Phase.DataOut) in
        absurd cc
    go true x true y false z = wrong (sym (λ t. x t && y t && not (z t)) ∙ e)
    go true x false y i z = wrong (sym (known x) ∙ y)
    go false x true y true z =
        let w = sym f ∙ (λ t. if x t then (if z t then Phase.MessageIn else Phase.MessageOut)
        else if y t then (if z t then Phase.Status else Phase.Command)
        else if z t then Phase.DataIn else Phase.DataOut) in
        absurd cc
    go false x true y false z =
        let w = sym f ∙ (λ t. if x t then (if z t then Phase.MessageIn else Phase.MessageOut)
        else if y t then (if z t then Phase.Status else Phase.Command)
        else if z t then Phase.DataIn else Phase.DataOut) in
        absurd cc
    go false x false y true z =
        let w = sym f ∙ (λ t. if x t then (if z t then Phase.MessageIn else Phase.MessageOut)
        else if y t then (if z t then Phase.Status else Phase.Command)
        else if z t then Phase.DataIn else Phase.DataOut) in
        absurd cc
    go false x false y false z =
        let w = sym f ∙ (λ t. if x t then (if z t then Phase.MessageIn else Phase.MessageOut)
        else if y t then (if z t then Phase.Status else Phase.Command)
        else if z t then Phase.DataIn else Phase.DataOut) in
        absurd cc

-- What is left after it, where it is not MESSAGE OUT: by how the phase before it is left.
pub turn_phases : (s : ScenarioValue) (p : List Row) (row : Row) (n : Connection) (c : Change)
    → (h : TurnRow s p row n c) → (run_state s p).exchange.begun ≡ true
    → is_message_out c.after ≡ false → (c.after.msg ≡ true → c.after.cd ≡ true) → (r : Bool)
    → phases_left r (run_state s (row ∷ p)) ≡ left_of (leaving s (run_state s p) n.target)
turn_phases s p row n c h begun other known r =
    let k = run_state s p in
    let t = turn_in s p row n c h in
    let l = leaving s k n.target in
    let w = hearing_of k row (reading_in k.story.bus_state n c false) in
    let b = h.was.stood.plain.begun in
    let to : l.to ≡ Some (phase_of c.after) = h.lines.whereto (ap changes_phase h.lines_are ∙ h.turned) (sym b ∙ begun)
    ∙ ap (λ (x : Change). Some (phase_of x.after)) h.lines_are in
    (λ i. if (t.exchange_is i).begun then phases_in r (t.exchange_is i).plan (phase_of (t.bus_is i))
    else for_reselection + 8 * for_phase)
    ∙ ap (λ (q : Bool). phases_in r
    (if not q then record (plan_anew k.exchange.plan) { messages = l.messages; next = l.next }
    else if k.exchange.begun then plan_in_message_out w k.exchange.plan else plan_anew k.exchange.plan)
    (phase_of c.after)) other
    ∙ entered r k.exchange.plan l (phase_of c.after) (not_out c.after other known) ∙ sym (ap (left_to l) to)

-- ---- the runs that are counted

pub not_done : (s : ScenarioValue) (k : RunState) (n : Connection) → is_in_data k ≡ false → k.exchange.begun ≡ true
    → (leaving s k n.target).done ≡ false
not_done s k n still_here b =
    by_bool (leaving s k n.target).done (λ e. absurd (never (done_in_data (serving_of s k n.target) (bus_of k).atn
    (phase_of (bus_of k)) (sym (ap (λ (l : Leaving). l.done) left) ∙ e)))) (λ e. e)
  where
    from : is_data (bus_of k) ≡ false
    from = sym (λ i. b i && is_data (bus_of k)) ∙ still_here

    left : leaving s k n.target ≡ phase_leaving (serving_of s k n.target) (bus_of k).atn (phase_of (bus_of k))
    left = λ i. if b i then phase_leaving (serving_of s k n.target) (bus_of k).atn (phase_of (bus_of k))
        else phase_entry Phase.MessageOut

    never : (phase_of (bus_of k) ≡ Phase.DataIn) ⊎ (phase_of (bus_of k) ≡ Phase.DataOut) → ⊥
    never (inl e) = no_data_in (bus_of k) from e
    never (inr e) = no_data_out (bus_of k) from e

pub turn_progress : (s : ScenarioValue) (p : List Row) (row : Row) (n : Connection) (c : Change) → TurnRow s p row n c
    → (run_state s (row ∷ p)).progress ≡ (if (run_state s p).exchange.begun
    then progress_by_leaving (run_state s p) (process_served s (run_state s p)) (leaving s (run_state s p) n.target)
    else (run_state s p).progress)
turn_progress s p row n c h =
    let k = run_state s p in
    let g = h.goes in
    let r = reading_is k row n c false g.row_is
    (ap (λ (x : Option ℕ). is_some x) (turn_kind row n c g.row_is.kind h.turned).1) in
    (λ i. progress_after s k (r i) (g.row_is.connection_is i) (r i).next (leaving_of s k (g.row_is.connection_is i)))
    ∙ (λ i. if h.turned i && k.exchange.begun then progress_by_leaving k (process_served s k) (leaving s k n.target)
    else k.progress)

pub turn_runs : (s : ScenarioValue) (p : List Row) (row : Row) (n : Connection) (c : Change)
    → TurnRow s p row n c → is_in_data (run_state s p) ≡ false → (id : ProcId)
    → (progress_in (run_state s (row ∷ p)).progress id).runs ≡ (progress_in (run_state s p).progress id).runs
turn_runs s p row n c h from id =
    ap (λ (m : List ProcessProgress). (progress_in m id).runs) (turn_progress s p row n c h)
    ∙ go (run_state s p).exchange.begun refl (process_served s (run_state s p))
  where
    k : RunState
    k = run_state s p

    l : Leaving
    l = leaving s k n.target

    go : (b : Bool) → k.exchange.begun ≡ b → (o : Option Process)
        → (progress_in (if b then progress_by_leaving k o l else k.progress) id).runs ≡ (progress_in k.progress id).runs
    go false e o = refl
    go true e None = refl
    go true e (Some q) = (λ i. (progress_in (progress_with k.progress q.id (not_done s k n from e i) l.counts) id).runs)
        ∙ same_runs k.progress q.id l.counts id

-- ---- the measure

sense_kept : (a b : Bool) (x y : List ProcessProgress) (o : Option Item) → a ≡ b
    → ((id : ProcId) → (progress_in x id).runs ≡ (progress_in y id).runs)
    → sense_bytes_left a x o ≡ sense_bytes_left b y o
sense_kept a b x y None e f = refl
sense_kept a b x y (Some (abort n)) e f = refl
sense_kept a b x y (Some (process id)) e f = λ i. if id.sense && not (e i) && f id i == 0 then for_byte * 18 else 0

pub turn_struck : (s : ScenarioValue) (p : List Row) (row : Row) (n : Connection) (c : Change) → TurnRow s p row n c
    → is_struck_phase s (row ∷ p) ≡ false
turn_struck s p row n c h =
    let k = run_state s p in
    let g = h.goes in
    let r = reading_is k row n c false g.row_is
    (ap (λ (x : Option ℕ). is_some x) (turn_kind row n c g.row_is.kind h.turned).1) in
    (λ i. is_some (g.row_is.connection_is i) && is_some (r i).next
    && not (changes_phase (r i).change) && (is_fault row.kind || is_struck_phase s p))
    ∙ (λ i. true && true && not (h.turned i) && (is_fault row.kind || is_struck_phase s p))

zero_more : (a b : ℕ) → a + 64 * 0 ≤ b → a ≤ b
zero_more a b h = omega arith

turn_sum : (f g a b x w y z u m v : ℕ) → v ≡ f + 40 + (a + x + y + 0) → m ≡ g + 40 + (b + w + z + u) → f ≤ g
    → a + 128 ≤ b + u → x ≤ 106 → y ≡ z → suc v ≤ m
turn_sum f g a b x w y z u m v d e h i c l = omega arith

pub turn_falls : (s : ScenarioValue) (p : List Row) (row : Row) (n : Connection) (c : Change)
    → TurnRow s p row n c → is_in_data (run_state s p) ≡ false → is_data c.after ≡ false
    → phases_left (is_refusing s (row ∷ p)) (run_state s (row ∷ p)) + 128
    ≤ phases_left (is_refusing s p) (run_state s p) + struck_left s (is_struck_phase s p)
    → suc (measure s (row ∷ p)) ≤ measure s p
turn_falls s p row n c h from to pays =
    let k = run_state s p in
    let q : List Row = row ∷ p in
    let j = run_state s q in
    let dv = h.was.stood.standing.devices in
    let t = turn_in s p row n c h in
    let g = h.goes in
    let lines = (turn_kind row n c g.row_is.kind h.turned).0 in
    let knows : Knows s k n = h.was.stood.books.knows n g.row_is.connection_is g.calm in
    let sent = (over_after s k row n c false knows.link g.row_is
    (ap (λ (x : Option ℕ). is_some x) (turn_kind row n c g.row_is.kind h.turned).1) knows.link_is).same
    (inl h.turned) in
    let still_after : is_in_data j ≡ false = ap (λ (x : Bool). j.exchange.begun && x) (ap is_data t.bus_is ∙ to)
    ∙ and_false j.exchange.begun in
    let moves = still_after ∙ sym from in
    let runs : (id : ProcId) → (progress_in j.progress id).runs ≡ (progress_in k.progress id).runs = turn_runs
    s p row n c h from in
    let pl = run_state_plain s q (h.below, dv) in
    let off_next : (bus q).rst ≡ false = ap (λ (l : LineSet). l.rst) (sym pl.bus ∙ t.bus_is) ∙ g.row_is.calm in
    let future = zero_more (future_left s j) (future_left s k) (future_falls s j k 0 (record {
      sent = lowers_same k.story.sent j.story.sent sent;
      «open» = λ m d at o. same_less (open_of s j m d) (open_of s k m d)
          (λ i. open_left s (serves_item (t.served_is i) (command_item m)) (moves i) (runs (command_id m) i) d);
      resets = same_less (resets_left j s.resets + 0) (resets_left k s.resets)
          (plus_none (resets_left j s.resets) ∙ calm_resets s p row dv h.below lines h.off off_next);
      faults = ap (λ (b : Bool). if b then drop 1 k.faults else k.faults) lines;
    })) in
    let struck = turn_struck s p row n c h in
    let before = shape s k (is_struck_phase s p) (is_refusing s p) n g.calm g.row_is.connection_is in
    let after = shape s j (is_struck_phase s q) (is_refusing s q) n
    (ap (λ (l : LineSet). l.rst) t.bus_is ∙ g.row_is.calm) t.connection_is
    ∙ ap (λ (x : Bool). future_left s j + 40 + (phases_left (is_refusing s q) j + phase_left s j n
    + sense_bytes_left (is_in_data j) j.progress j.served + struck_left s x)) struck in
    let senses = sense_kept (is_in_data j) (is_in_data k) j.progress k.progress j.served moves runs
    ∙ ap (λ (o : Option Item). sense_bytes_left (is_in_data k) k.progress o) t.served_is in
    turn_sum (future_left s j) (future_left s k) (phases_left (is_refusing s q) j) (phases_left (is_refusing s p) k)
    (phase_left s j n) (phase_left s k n) (sense_bytes_left (is_in_data j) j.progress j.served)
    (sense_bytes_left (is_in_data k) k.progress k.served) (struck_left s (is_struck_phase s p)) (measure s p)
    (measure s q) after before future pays (turn_phase s p row n c h to) senses
  where
    same_less : (a b : ℕ) → a ≡ b → a ≤ b
    same_less a b e = omega arith
