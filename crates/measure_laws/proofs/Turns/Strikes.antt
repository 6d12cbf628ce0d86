-- With each fault row that strikes a byte in a connection the measure falls: the fault pays what it may call for.
use Rattle.measure_laws.proofs
use proofs.Names.{ℕ, suc, ◌≡◌, ◌≤◌, ◌<◌, ◌∙◌, Bool, true, false, List, [], ◌∷◌, length, refl, sym, ap, subst, arith}
use proofs.Names.{Option, Some, None, ◌&&◌, ◌+◌, ◌-◌, ◌*◌, ◌==◌, drop, if◌then◌else◌, not, ◌||◌, is_some, wrong, Event}
use proofs.Names.{same_self, rises, LineSet, changes_phase, is_data, is_message_in, is_message_out, connection_after}
use proofs.Names.{is_fault, receiver_in, drives, last_time, Row, Change, Connection, struck_length, Handshakes}
use proofs.Names.{handshakes, newest_struck_if, ScenarioValue, Policy, Process, RowReading, row_reading, is_complete}
use proofs.Names.{is_completion, link_events, row_events_by, Item, Link, latency_of, story_after_events}
use proofs.Names.{story_by_change, story_on_bus, sample_due, bits_if, Due, Answering, Offering, policy_of}
use proofs.Names.{is_pulsed_phase, Exchange, Speech, bytes_of_messages, struck_plan, begun, phase_of, run_length_if}
use proofs.Names.{Cause, Phase, Plan, run_state_plain, target_def_of, IsLeast, AreOfDevices, IsPlain, RunState, bus_of}
use proofs.Names.{process_item, process_served, array_after_events, leaving_of, progress_after, progress_by_leaving}
use proofs.Names.{run_state, answering_of, flip_of, offering_of, task_if, task_of, InConnection, in_connection, IsRowIn}
use proofs.Names.{strikes, is_refusing, is_struck_phase, change_plain, fault_change, is_there, EndLines, Linked}
use proofs.Names.{connected_bus, initiator_side, target_side, device_with, own_time, unreset_due, change_to}
use proofs.Names.{row_of_fault, answering_with, due_of, initiator_is, initiator_plain, is_sampling, offering_with}
use proofs.Names.{pace_with, sight_with, target_is, target_plain, no_rise, linked_fault, none_both, by_option}
use proofs.Names.{is_pulsed, initiator_lines, target_lines, of_lines, aborts_left, future_left, is_in_data, one_where}
use proofs.Names.{resets_left, measure, after_words, has_first_byte, has_next_byte, is_asked, is_driven, phase_left}
use proofs.Names.{phases_in, phases_left, repeated, requests_by, requests_left, sense_bytes_left, struck_left}
use proofs.Names.{under_way, waiting_left, words_left, for_byte, for_fault, for_phase, for_reselection, for_reset}
use proofs.{Names.{for_struck_phase}, Apart.{Falls.{one_fault, times_one}, Future.{commands_by, future_was}}}
use proofs.{Lines.Shifts.{inside}, Phases.{Bytes.{tells_quiet}, Calm.{phase_by_lines, way_by}, Still.{shape}}}
use proofs.{Resets.Faults.{resets_fault}, Words.Lengths.{few_words}}

-- ---- a fault is there

calm_due : (q : Bool) (last : ℕ) (flip : Option ℕ) (plain : Option Due) → flip ≡ None
    → sample_due q last flip plain ≡ plain
calm_due true last flip plain f = λ i. sample_due true last (f i) plain
calm_due false last flip plain f = refl

pub strikes_fault : (s : ScenarioValue) (p : List Row) (row : Row) (n : Connection) (e : EndLines) → AreOfDevices p
    → Linked p n e → begun p ≡ true → row.dev ≡ (if e.io then n.initiator else n.target) → is_fault row.kind ≡ true
    → IsLeast (unreset_due s p) 8 row → length (run_state s p).faults ≡ suc (length (drop 1 (run_state s p).faults))
strikes_fault s p row n e dv h b who fault least =
    by_option (flip_of (run_state s p).faults (last_time p))
    (λ z. wrong (sym fault ∙ lines z e.io refl))
    (λ bit z. one_fault (run_state s p).faults (last_time p) bit z)
  where
    there : (lat : ℕ) × (latency_of s row.dev ≡ Some lat)
    there = is_there s p row.dev (due_of row) least.is_due

    lines : flip_of (run_state s p).faults (last_time p) ≡ None → (io : Bool) → e.io ≡ io → is_fault row.kind ≡ false
    lines z true io =
        let same : row.dev ≡ n.initiator = who ∙ ap (λ (q : Bool). if q then n.initiator else n.target) io in
        let due = sym (initiator_is s p n e true there.0 dv h b (ap (latency_of s) (sym same) ∙ there.1))
        ∙ ap (unreset_due s p) (sym same) ∙ least.is_due in
        of_lines (initiator_plain s p n true e there.0) (due_of row) (initiator_lines true (sight_with p n e)
        (handshakes p) (device_with n.initiator there.0 (initiator_side e) (own_time p n.initiator))
        (pace_with s p true e n.initiator) (answering_with s p n e)) (sym (calm_due (is_sampling s p n n.initiator)
        (last_time p) (flip_of (run_state s p).faults (last_time p)) (initiator_plain s p n true e there.0) z) ∙ due)
    lines z false io =
        let same : row.dev ≡ n.target = who ∙ ap (λ (q : Bool). if q then n.initiator else n.target) io in
        let due = sym (target_is s p n e true there.0 dv h b (ap (latency_of s) (sym same) ∙ there.1))
        ∙ ap (unreset_due s p) (sym same) ∙ least.is_due in
        of_lines (target_plain s p n true e there.0) (due_of row) (target_lines true (sight_with p n e) (handshakes p)
        (device_with n.target there.0 (target_side e) (own_time p n.target)) (pace_with s p true e n.target)
        (offering_with s p n true e)) (sym (calm_due (is_sampling s p n n.target) (last_time p)
        (flip_of (run_state s p).faults (last_time p)) (target_plain s p n true e there.0) z) ∙ due)

-- ---- what it makes of the phase: its words once more at most, and three rows

-- The run keeps its length: of what was carried it reads nothing.
run_of : (s : ScenarioValue) (j k : RunState) (policy : Policy) → j.array ≡ k.array → j.progress ≡ k.progress
    → (o : Option Process) → run_length_if policy (task_if s j o) ≡ run_length_if policy (task_if s k o)
run_of s j k policy a m None = refl
run_of s j k Policy.Never a m (Some c) =
    λ i. run_length_if Policy.Never (task_if s (record k { array = a i; progress = m i }) (Some c))
run_of s j k Policy.Command a m (Some c) =
    λ i. run_length_if Policy.Command (task_if s (record k { array = a i; progress = m i }) (Some c))
run_of s j k (Policy.Burst most) a m (Some c) =
    λ i. run_length_if (Policy.Burst most) (task_if s (record k { array = a i; progress = m i }) (Some c))
run_of s j k (Policy.NoSave most) a m (Some c) =
    λ i. run_length_if (Policy.NoSave most) (task_if s (record k { array = a i; progress = m i }) (Some c))

few_again : (q : Bool) (w : ℕ) → w ≤ 8 → repeated q w ≤ 8
few_again true w h = h
few_again false w h = omega arith

more : (x y z : ℕ) → y ≤ 8 → x + y ≤ x + z + 8
more x y z h = omega (arith, h)

more_of : (y z : ℕ) → y ≤ 8 → y ≤ z + 8
more_of y z h = omega (arith, h)

same_more : (x y : ℕ) → x ≡ y → x ≤ y + 8
same_more x y e = omega (arith, e)

words_more : (none asked first a b : Bool) (w place : ℕ) → w ≤ 8
    → (if none then w else if not asked then (if first then repeated a w else w - place + repeated a w)
    else if first then w - 1 else w - (place + 1) + repeated a w)
    ≤ (if none then w else if not asked then (if first then repeated b w else w - place + repeated b w)
    else if first then w - 1 else w - (place + 1) + repeated b w) + 8
words_more true asked first a b w place h = same_more w w refl
words_more false false true a b w place h = more_of (repeated a w) (repeated b w) (few_again a w h)
words_more false false false a b w place h = more (w - place) (repeated a w) (repeated b w) (few_again a w h)
words_more false true true a b w place h = same_more (w - 1) (w - 1) refl
words_more false true false a b w place h = more (w - (place + 1)) (repeated a w) (repeated b w) (few_again a w h)

requests_more : (a b asked : Bool) (g h : Handshakes) (y : Speech) (bytes run : ℕ) (phase : Phase)
    → g.requests ≡ h.requests → length y.words ≤ 8
    → requests_by a asked g y bytes run phase ≤ requests_by b asked h y bytes run phase + 8
requests_more a b asked g h y bytes run Phase.MessageOut e w = subst
    (λ x. x ≤ words_left b asked h y + 8) (λ i. words_left a asked (record h { requests = (sym e) i }) y)
    (words_more (h.requests == 0) asked (y.place == 0) a b (length y.words) y.place w)
requests_more a b asked g h y bytes run Phase.MessageIn e w =
    same_more (bytes - g.requests) (bytes - h.requests) (ap (λ x. bytes - x) e)
requests_more a b asked g h y bytes run Phase.Command e w =
    same_more (12 - g.requests) (12 - h.requests) (ap (λ x. 12 - x) e)
requests_more a b asked g h y bytes run Phase.Status e w =
    same_more (1 - g.requests) (1 - h.requests) (ap (λ x. 1 - x) e)
requests_more a b asked g h y bytes run Phase.DataIn e w =
    same_more (run - g.requests) (run - h.requests) (ap (λ x. run - x) e)
requests_more a b asked g h y bytes run Phase.DataOut e w =
    same_more (run - g.requests) (run - h.requests) (ap (λ x. run - x) e)

one_most : (q : Bool) → one_where q ≤ 1
one_most true = omega arith
one_most false = omega arith

way_more : (a c c' m1 m2 m3 m4 m5 m n' : ℕ) → c ≤ 1 → n' ≤ 1
    → a - 2 * c' + m1 + m2 + m3 + m4 + m5 + n' ≤ a - 2 * c + m1 + m2 + m3 + m4 + m5 + m + 3
way_more a c c' m1 m2 m3 m4 m5 m n' h e = omega (arith, h, e)

-- What is under way, by the count of requests and of those that wait.
abbrev under_by : Bool → LineSet → ℕ → ℕ → LineSet → LineSet → Offering → Answering → ℕ
under_by u bus r w tl il x a =
    waiting_left bus.io (is_driven u il a.byte) (if u then w else one_where (is_asked bus))
    + one_where tl.req
    + one_where il.ack
    + one_where (not (il.data_bits == 0))
    + one_where il.bsy
    + one_where (r == 0 && bus.io && tl.data_bits == 0)
    + one_where (u && bus.io && not (r == 0) && not (tl.data_bits == bits_if x.follows x.byte))

under_more : (u : Bool) (bus : LineSet) (g h : Handshakes) (tl il : LineSet) (x y : Offering) (a c : Answering)
    → g.requests ≡ h.requests → length g.waiting ≡ length h.waiting
    → under_way u bus g tl il x a ≤ under_way u bus h tl il y c + 3
under_more u bus g h tl il x y a c e l =
    let w : ℕ = if u then length h.waiting else one_where (is_asked bus) in
    subst (λ v. v ≤ under_way u bus h tl il y c + 3) (λ i. under_by u bus (sym e i) (sym l i) tl il x a)
    (way_more (4 * w) (one_where (is_driven u il c.byte && not bus.io && not (w == 0)))
    (one_where (is_driven u il a.byte && not bus.io && not (w == 0))) (one_where tl.req) (one_where il.ack)
    (one_where (not (il.data_bits == 0))) (one_where il.bsy) (one_where (has_first_byte bus h tl))
    (one_where (has_next_byte u bus h tl y)) (one_where (has_next_byte u bus h tl x))
    (one_most (is_driven u il c.byte && not bus.io && not (w == 0))) (one_most (has_next_byte u bus h tl x)))

-- ---- and of the phases after it: nothing

struck_words : (b : Bool) (l : Plan) (c : Cause) → after_words b (struck_plan l) c ≡ after_words b l c
struck_words b l Cause.Selected = refl
struck_words true l Cause.InMessage = refl
struck_words false l Cause.InMessage = refl
struck_words true l Cause.InData = refl
struck_words false l Cause.InData = refl
struck_words true l Cause.InStatus = refl
struck_words false l Cause.InStatus = refl

struck_phases : (b q : Bool) (l : Plan) (phase : Phase)
    → phases_in b (if q then struck_plan l else l) phase ≡ phases_in b l phase
struck_phases b false l phase = refl
struck_phases b true l Phase.MessageOut = struck_words b l l.cause
struck_phases b true l _ = refl

struck_messages : (q : Bool) (l : Plan) → (if q then struck_plan l else l).messages ≡ l.messages
struck_messages true l = refl
struck_messages false l = refl

struck_requests : (q : Bool) (h : Handshakes) → (newest_struck_if q h).requests ≡ h.requests
struck_requests true h = refl
struck_requests false h = refl

struck_waiting : (q : Bool) (h : Handshakes) → length (newest_struck_if q h).waiting ≡ length h.waiting
struck_waiting true h = struck_length h.waiting
struck_waiting false h = refl

-- ---- the row

strike_sum : (c x z m r r' w w' i t : ℕ) → r' ≤ r + 8 → w' ≤ w + 3
    → suc (c + x + 40 + (m + (8 * r' + w') + i + z)) ≤ c + (x + (z + 2 * 64)) + 40 + (m + (8 * r + w) + i + t)
strike_sum c x z m r r' w w' i t h e = omega (arith, h, e)

pub strike_falls : (s : ScenarioValue) (p : List Row) (t d bit : ℕ) (n : Connection) (e : EndLines)
    → AreOfDevices p → d < 8 → Linked p n e → begun p ≡ true
    → length (run_state s p).faults ≡ suc (length (drop 1 (run_state s p).faults))
    → suc (measure s (row_of_fault t d bit ∷ p)) ≤ measure s p
strike_falls s p t d bit n e dv lt h b some =
    let before = shape s k (is_struck_phase s p) (is_refusing s p) n
    (ap (λ (v : LineSet). v.rst) (pk.bus ∙ h.stands.bus_is)) con in
    let after = shape s j (is_struck_phase s q) (is_refusing s q) n
    (ap (λ (v : LineSet). v.rst) (pj.bus ∙ hq.stands.bus_is)) (pj.connection ∙ hq.stands.connection_is) in
    let same = after
    ∙ (λ i. future_after i + 40 + (phases_same i + left_next i + senses i + struck_left s (struck_now i))) in
    let was = before ∙ (λ i. future_before i + 40 + (phases_left (is_refusing s p) k + left i
    + sense_bytes_left (is_in_data k) k.progress k.served + struck_left s (is_struck_phase s p))) in
    subst (λ m. suc m ≤ measure s p) (sym same) (subst (λ m.
    suc (kept + for_fault s * rest + 40 + (phases_left (is_refusing s p) k + (for_byte * requests_left s j n.target
    + way_next) + sense_bytes_left (is_in_data k) k.progress k.served + struck_left s true)) ≤ m)
    (sym was) (strike_sum kept (for_fault s * rest) (for_struck_phase s) (phases_left (is_refusing s p) k)
    (requests_left s k n.target) (requests_left s j n.target) way_was way_next
    (sense_bytes_left (is_in_data k) k.progress k.served) (struck_left s (is_struck_phase s p)) requests way))
  where
    row : Row
    row = row_of_fault t d bit

    q : List Row
    q = row ∷ p

    k : RunState
    k = run_state s p

    j : RunState
    j = run_state s q

    c : Change
    c = change_to (connected_bus e) (connected_bus e) (drives p d) (drives p d)

    hq : Linked q n e
    hq = linked_fault p n e t d bit h

    pk : IsPlain s p k
    pk = run_state_plain s p dv

    pj : IsPlain s q j
    pj = run_state_plain s q (lt, dv)

    read : RowReading
    read = row_reading k.story.bus_state row

    phase : changes_phase c ≡ false
    phase = λ i. not (same_self e.msg i && same_self e.cd i && same_self e.io i)

    received : receiver_in n c ≡ None
    received = (λ i. if e.io then (if no_rise e.req i then Some n.initiator else None)
        else (if no_rise e.ack i then Some n.target else None))
        ∙ none_both e.io

    change : read.change ≡ c
    change = change_plain s row p dv lt ∙ fault_change p t d bit (connected_bus e) (drives p d) h.stands.bus_is refl

    row_is : IsRowIn k row n c
    row_is = record {
      connection_is = pk.connection ∙ h.stands.connection_is;
      change_is = change;
      bus_is = pk.bus ∙ h.stands.bus_is;
      stands = refl;
      calm = refl;
      kind = strikes refl phase received;
    }

    made : InConnection s k row n c false false true
    made = in_connection s k row n c false false true row_is phase (ap (λ (x : Option ℕ). is_some x) received) refl

    con : k.story.bus_state.connection ≡ Some n
    con = pk.connection ∙ h.stands.connection_is

    next : read.next ≡ Some n
    next = λ i. connection_after (con i) k.story.bus_state.call (change i) row

    quiet : (l : Link) → is_completion l c ≡ false
    quiet l = ap (λ (x : Bool). x && is_message_in (connected_bus e) && is_complete l.last && not e.atn) (no_rise e.ack)

    tells : row_events_by s k.story read row ≡ []
    tells = ap (λ (x : Change).
        if x.after.rst then (if rises read.change.own.rst read.change.next.rst then Event.Reset row.dev ∷ [] else [])
        else link_events s k.story k.story.link read) change
        ∙ tells_quiet s k.story k.story.link read n c next change phase quiet

    sent : j.story.sent ≡ k.story.sent
    sent = ap (λ (x : List Event). (story_after_events s (story_by_change s k.story read row) x).sent) tells
        ∙ ap (λ (x : Change). (if x.after.rst then record k.story { link = None }
        else story_on_bus s k.story k.story.bus_state.connection read.next read row).sent) change
        ∙ (λ i. (story_on_bus s k.story (con i) (next i) read row).sent) ∙ inside s k.story k.story.link read row

    array : j.array ≡ k.array
    array = ap (array_after_events s k.array) tells

    ep : changes_phase read.change ≡ false
    ep = ap changes_phase change ∙ phase

    progress : j.progress ≡ k.progress
    progress = (λ i. progress_after s k read (con i) (next i) (leaving_of s k k.story.bus_state.connection))
        ∙ ap (λ (x : Bool). if x && k.exchange.begun
        then progress_by_leaving k (process_served s k) (leaving_of s k k.story.bus_state.connection) else k.progress)
        ep

    begun_same : j.exchange.begun ≡ k.exchange.begun
    begun_same = ap (λ (x : Exchange). x.begun) made.exchange_is

    lines : bus_of j ≡ bus_of k
    lines = pj.bus ∙ hq.stands.bus_is ∙ sym (pk.bus ∙ h.stands.bus_is)

    moves : is_in_data j ≡ is_in_data k
    moves = λ i. begun_same i && is_data (lines i)

    -- what is still to come of the scenario's lines
    rest : ℕ
    rest = length (drop 1 k.faults)

    kept : ℕ
    kept = commands_by s k.story.sent k.served (is_in_data k) k.progress 1 s.commands
        + aborts_left s k.story.sent 1 s.aborts + for_reset * resets_left k s.resets

    future_after : future_left s j ≡ kept + for_fault s * rest
    future_after = future_was s j ∙ (λ i. commands_by s (sent i) (made.served_is i) (moves i) (progress i) 1 s.commands
        + aborts_left s (sent i) 1 s.aborts + for_reset * resets_fault s p t d bit s.resets dv lt i
        + for_fault s * rest)

    future_before : future_left s k ≡ kept + (for_fault s * rest + for_fault s)
    future_before =
        future_was s k ∙ ap (λ x. kept + for_fault s * x) some ∙ ap (λ x. kept + x) (times_one (for_fault s) rest)

    -- the phase
    speech : j.exchange.speech ≡ k.exchange.speech
    speech = ap (λ (x : Exchange). x.speech) made.exchange_is

    messages : j.exchange.plan.messages ≡ k.exchange.plan.messages
    messages = ap (λ (x : Exchange). x.plan.messages) made.exchange_is ∙ struck_messages (not e.io) k.exchange.plan

    policy : Policy
    policy = policy_of (target_def_of s n.target)

    run : run_length_if policy (task_of s j) ≡ run_length_if policy (task_of s k)
    run = ap (λ (x : Option Item). run_length_if policy (task_if s j (process_item s x))) made.served_is
        ∙ run_of s j k policy array progress (process_served s k)

    asked : j.handshakes.requests ≡ k.handshakes.requests
    asked = ap (λ (x : Handshakes). x.requests) made.handshakes_is ∙ struck_requests e.io k.handshakes

    waits : length j.handshakes.waiting ≡ length k.handshakes.waiting
    waits = ap (λ (x : Handshakes). length x.waiting) made.handshakes_is ∙ struck_waiting e.io k.handshakes

    requests : requests_left s j n.target ≤ requests_left s k n.target + 8
    requests = subst (λ x. x ≤ requests_left s k n.target + 8)
        (sym (λ i. requests_by j.exchange.plan.struck (is_asked (lines i)) j.handshakes
        (speech i) (length (bytes_of_messages (messages i))) (run i) (phase_of (lines i))))
        (requests_more j.exchange.plan.struck k.exchange.plan.struck (is_asked (bus_of k)) j.handshakes k.handshakes
        k.exchange.speech (length (bytes_of_messages k.exchange.plan.messages)) (run_length_if policy (task_of s k))
        (phase_of (bus_of k)) asked (few_words s p))

    agreed : is_pulsed q e ≡ is_pulsed p e
    agreed = λ i. is_pulsed_phase true (connected_bus e)
        ((sym pj.dialogue ∙ made.dialogue_is ∙ pk.dialogue) i).heard.now.agreement

    begun_next : begun q ≡ true
    begun_next = sym pj.begun ∙ begun_same ∙ pk.begun ∙ b

    way_was : ℕ
    way_was = way_by (is_pulsed p e) e (handshakes p) (offering_of s k n.target) (answering_of s k n.initiator)

    way_next : ℕ
    way_next = way_by (is_pulsed p e) e (handshakes q) (offering_of s j n.target) (answering_of s j n.initiator)

    way : way_next ≤ way_was + 3
    way = under_more (is_pulsed p e) (connected_bus e) (handshakes q) (handshakes p) (target_side e)
        (initiator_side e) (offering_of s j n.target) (offering_of s k n.target) (answering_of s j n.initiator)
        (answering_of s k n.initiator) (ap (λ (x : Handshakes). x.requests) (sym pj.handshakes)
        ∙ asked ∙ ap (λ (x : Handshakes). x.requests) pk.handshakes)
        (ap (λ (x : Handshakes). length x.waiting) (sym pj.handshakes) ∙ waits
        ∙ ap (λ (x : Handshakes). length x.waiting) pk.handshakes)

    left : phase_left s k n ≡ for_byte * requests_left s k n.target + way_was
    left = phase_by_lines s p n e (is_pulsed p e) dv h b refl

    left_next : phase_left s j n ≡ for_byte * requests_left s j n.target + way_next
    left_next = phase_by_lines s q n e (is_pulsed p e) (lt, dv) hq begun_next agreed

    -- the phases after it
    refusing : is_refusing s q ≡ is_refusing s p
    refusing = λ i. is_some (con i) && is_some (next i)
        && (if ep i then read.change.before.io && is_struck_phase s p && is_message_out read.change.after
        else is_refusing s p)

    struck_now : is_struck_phase s q ≡ true
    struck_now = λ i. is_some (con i) && is_some (next i) && not (ep i) && (true || is_struck_phase s p)

    phases_same : phases_left (is_refusing s q) j ≡ phases_left (is_refusing s p) k
    phases_same = ap (λ (x : Bool). phases_left x j) refusing ∙ (λ i.
        if (made.exchange_is i).begun then phases_in (is_refusing s p) (made.exchange_is i).plan (phase_of (lines i))
        else for_reselection + 8 * for_phase)
        ∙ (λ i.
        if k.exchange.begun then struck_phases (is_refusing s p) (not e.io) k.exchange.plan (phase_of (bus_of k)) i
        else for_reselection + 8 * for_phase)

    senses : sense_bytes_left (is_in_data j) j.progress j.served ≡ sense_bytes_left (is_in_data k) k.progress k.served
    senses = λ i. sense_bytes_left (moves i) (progress i) (made.served_is i)

-- The next row of a connection, where it is a fault row.
pub strikes_falls : (s : ScenarioValue) (p : List Row) (row : Row) (n : Connection) (e : EndLines) (bit : ℕ)
    → AreOfDevices p → Linked p n e → begun p ≡ true → row.dev ≡ (if e.io then n.initiator else n.target)
    → row ≡ row_of_fault (last_time p) row.dev bit → IsLeast (unreset_due s p) 8 row
    → suc (measure s (row ∷ p)) ≤ measure s p
strikes_falls s p row n e bit dv h b who same least = subst (λ (r : Row). suc (measure s (r ∷ p)) ≤ measure s p)
    (sym same) (strike_falls s p (last_time p) row.dev bit n e dv least.inside h b
    (strikes_fault s p row n e dv h b who (ap (λ (r : Row). is_fault r.kind) same) least))
