-- As the caller of a calling that was not answered releases all, the measure falls: a try of its item, or the item, is
-- over; or a fault struck the calling.
use Rattle.measure_laws.proofs
use proofs.Names.{ℕ, zero, suc, ◌≡◌, ◌<◌, ◌≤◌, ◌∙◌, Bool, true, false, ◌&&◌, List, [], ◌∷◌, length, Option, Some, None}
use proofs.Names.{refl, sym, ap, subst, arith, same_Some, not, ◌+◌, ◌*◌, drop, if◌then◌else◌, is_none, nat_lt}
use proofs.Names.{none_between, ProcId, falls, rises, call, connection, is_fault, bus, Row, Change, Calling}
use proofs.Names.{ScenarioValue, Obeys, AbortDef, CmdDef, Process, command_at, command_process, process_by, process_if}
use proofs.Names.{process_of, sense_process, is_initiator, RowReading, row_reading, abort_line_at, Item, Sent, abort}
use proofs.Names.{command_item, count_item, is_done, process, sense_item, aim_of, is_arbitration_entry, is_counted}
use proofs.Names.{retries_of, story_after_calling, story_with_try, run_state_plain, IsPrompt, AreOfDevices, RunState}
use proofs.Names.{run_state, initiator_if, ready_of, target_if, target_of, command_fits, obeys_fits, FitsBus, aims_are}
use proofs.Names.{IsItem, is_process, free_by, new_calling_at, withdrawn_call, HasDevice, none_some, by_option}
use proofs.Names.{IsDueCall, callee_at, IsNext, is_abort as next_abort, is_command, is_sense, next_unended, next_unsent}
use proofs.Names.{items_ready, self_item, Whole, whole, initiator_there, struck_out, aborts_left, future_left}
use proofs.{Names.{is_in_data, resets_left, measure, again_if, way_left, for_fault, for_reset}, Apart.Falls.{falling}}
use proofs.Apart.{Future.{ApartParts, commands_by, future_by, future_is, future_was}, Senses.{checked_there}}
use proofs.Apart.Tries.{aborts_le, aborts_pay, commands_le, commands_pay, gives_up_at, sent_if, try_sent}
use proofs.Resets.Faults.{resets_calm}
use Rattle.progress_laws.specs.book_laws.specs.Items.{is_abort}

-- ---- who is there

process_host : (s : ScenarioValue) (id : ProcId) (t : Process) → FitsBus s → process_of s id ≡ Some t
    → is_initiator s.hosts t.initiator ≡ true
process_host s id t fits e = by_option (command_at s.commands id.command)
    (λ z. none_some t (sym (ap (process_if s id) z) ∙ e)) (λ c z. ap (λ (x : Process). is_initiator s.hosts x.initiator)
    (sym (same_Some (process_by s id c) t (sym (ap (process_if s id) z) ∙ e)))
    ∙ by id.sense c (command_fits s id.command c fits z).host_is)
  where
    by : (q : Bool) (c : CmdDef) → is_initiator s.hosts c.host ≡ true
        → is_initiator s.hosts (if q then sense_process s id c else command_process s id c).initiator ≡ true
    by true c h = h
    by false c h = h

-- A target calls an initiator of the scenario.
ready_there : (s : ScenarioValue) (p : List Row) (c m : ℕ) → Obeys s → Whole s p → is_initiator s.hosts c ≡ false
    → callee_at s p c ≡ Some m → HasDevice s m
ready_there s p c m o w none e = by_option (ready_of s (run_state s p) c)
    (λ f. none_some m (sym (ap initiator_if f) ∙ called)) (λ r f. let queued = items_ready s p c r w.facts.items f in
    let host = process_host s r.process.id r.process (obeys_fits s o) queued.is in subst (HasDevice s)
    (same_Some r.process.initiator m (sym (ap initiator_if f) ∙ called)) (initiator_there s r.process.initiator host))
  where
    called : initiator_if (ready_of s (run_state s p) c) ≡ Some m
    called = sym (ap (λ (q : Bool). if q then target_of s (aim_of (run_state s p).story.aims c)
        else initiator_if (ready_of s (run_state s p) c)) none)
        ∙ e

-- An initiator that calls for an automatic REQUEST SENSE calls a target of the scenario.
sense_target : (s : ScenarioValue) (m i : ℕ) (c : CmdDef) → command_at s.commands m ≡ Some c
    → target_of s (Some (sense_item m)) ≡ Some i → c.target ≡ i
sense_target s m i c at e = same_Some c.target i
    (sym (ap (λ (o : Option CmdDef). target_if (process_if s (record { command = m; sense = true }) o)) at) ∙ e)

-- ---- numbers

both_less : (a b c d r f : ℕ) → a ≤ c → b ≤ d → a + b + r + f ≤ c + d + r + f
both_less a b c d r f g h = omega (arith, g, h)

first_pays : (a b c d r f : ℕ) → a + 64 ≤ c → b ≤ d → a + b + r + f + 64 ≤ c + d + r + f
first_pays a b c d r f g h = omega (arith, g, h)

second_pays : (a b c d r f : ℕ) → a ≤ c → b + 64 ≤ d → a + b + r + f + 64 ≤ c + d + r + f
second_pays a b c d r f g h = omega (arith, g, h)

by_try : (f g u v a : ℕ) → f + 64 ≤ g → u ≡ 40 → 5 + a ≤ v → suc (f + u) ≤ g + v
by_try f g u v a h e l = omega (arith, h, e, l)

by_strike : (f g u v : ℕ) → f ≤ g → u ≡ 40 → 5 + 64 ≤ v → suc (f + u) ≤ g + v
by_strike f g u v h e l = omega (arith, h, e, l)

one_and : (m : ℕ) → suc m ≡ 1 + m
one_and m = omega arith

-- ---- the item

few_tries : (s : ScenarioValue) (b : Sent) (c host : ℕ) (i : Item) → is_counted i ≡ true → host ≡ c
    → gives_up_at s b c i ≡ false → nat_lt (retries_of s.hosts host) (count_item b.tries i + 1) ≡ false
few_tries s b c host i counted own none = ap (λ (d : ℕ). nat_lt (retries_of s.hosts d) (count_item b.tries i + 1)) own
    ∙ sym (λ j. counted j
    && nat_lt (retries_of s.hosts c) (if self_item i j then count_item b.tries i + 1 else count_item b.tries i))
    ∙ none

no_command : (commands : List CmdDef) (c : CmdDef) → command_at commands zero ≡ Some c → ⊥
no_command [] c e = none_some c e
no_command (d ∷ commands) c e = none_some c e

no_abort : (aborts : List AbortDef) (a : AbortDef) → abort_line_at aborts zero ≡ Some a → ⊥
no_abort [] a e = none_some a e
no_abort (d ∷ aborts) a e = none_some a e

-- The line of an abort that is called for.
record ItsLine (s : ScenarioValue) (dev m : ℕ) : Type 0 where
  line : AbortDef
  at : abort_line_at s.aborts m ≡ Some line
  own : line.host ≡ dev

abbrev abort_of : Item → ℕ
abort_of (abort n) = n
abort_of (process id) = 0

its_line : (s : ScenarioValue) (dev : ℕ) (item : Item) → IsItem s dev item → (i : ℕ) → item ≡ abort i → ItsLine s dev i
its_line s dev _ (is_process id p found own) i e = absurd (no_process e)
  where
    no_process : process id ≡ abort i → ⊥
    no_process f = absurd cc
its_line s dev _ (is_abort m a found own) i e =
    let same : m ≡ i = ap abort_of e in
    record { line = a; at = ap (abort_line_at s.aborts) (sym same) ∙ found; own = own }

-- What is left of the items: a try, or an item, less; or as much at most, where its target is there.
data ItemLeft (s : ScenarioValue) (k : RunState) (b : Sent) (callee : Option ℕ) : Type 0 where
  pays : commands_by s b k.served (is_in_data k) k.progress 1 s.commands + aborts_left s b 1 s.aborts
      + for_reset * resets_left k s.resets + for_fault s * length k.faults + 64 ≤ future_left s k
      → ItemLeft s k b callee
  stays : ((d : ℕ) → callee ≡ Some d → HasDevice s d)
      → commands_by s b k.served (is_in_data k) k.progress 1 s.commands + aborts_left s b 1 s.aborts
      + for_reset * resets_left k s.resets + for_fault s * length k.faults ≤ future_left s k
      → ItemLeft s k b callee

item_left : (s : ScenarioValue) (p : List Row) (c : ℕ) (i : Item) → Obeys s → IsPrompt s p
    → aim_of (run_state s p).story.aims c ≡ Some i → IsNext s (run_state s p).story.sent c i
    → ItemLeft s (run_state s p) (sent_if (gives_up_at s (run_state s p).story.sent c i) (run_state s p).story.sent i)
    (target_of s (Some i))
item_left s p c i o prompt aim next = by_kind i refl next
  where
    k : RunState
    k = run_state s p

    b : Sent
    b = k.story.sent

    r : ℕ
    r = for_reset * resets_left k s.resets

    f : ℕ
    f = for_fault s * length k.faults

    Left : Item → Type 0
    Left x = ItemLeft s k (sent_if (gives_up_at s b c x) b x) (target_of s (Some x))

    commands : Item → ℕ
    commands x = commands_by s (sent_if (gives_up_at s b c x) b x) k.served (is_in_data k) k.progress 1 s.commands

    aborts : Item → ℕ
    aborts x = aborts_left s (sent_if (gives_up_at s b c x) b x) 1 s.aborts

    commands_were : ℕ
    commands_were = commands_by s b k.served (is_in_data k) k.progress 1 s.commands

    aborts_were : ℕ
    aborts_were = aborts_left s b 1 s.aborts

    fewer_commands : (x : Item) → IsNext s b c x → commands x ≤ commands_were
    fewer_commands x h = commands_le s b k.served (is_in_data k) k.progress (gives_up_at s b c x) x 1 s.commands
        (next_unsent s b c x h) (next_unended s b c x h)

    fewer_aborts : (x : Item) → aborts x ≤ aborts_were
    fewer_aborts x = aborts_le s b (gives_up_at s b c x) x 1 s.aborts

    of_command : (w : ℕ) (d : CmdDef) → command_at s.commands w ≡ Some d → d.host ≡ c → IsNext s b c (command_item w)
        → Left (command_item w)
    of_command zero d at own h = absurd (no_command s.commands d at)
    of_command (suc m) d at own h =
        let x : Item = command_item (suc m) in
        pays (subst (λ y. commands x + aborts x + r + f + 64 ≤ y) (sym (future_was s k))
        (first_pays (commands x) (aborts x) commands_were aborts_were r f (commands_pay s b k.served (is_in_data k)
        k.progress (gives_up_at s b c x) x m 1 s.commands d (next_unsent s b c x h) (next_unended s b c x h) at
        (ap command_item (one_and m)) (few_tries s b c d.host x refl own)) (fewer_aborts x)))

    of_abort : (w : ℕ) → is_done b (abort w) ≡ false → ItsLine s c w → IsNext s b c (abort w) → Left (abort w)
    of_abort zero new l h = absurd (no_abort s.aborts l.line l.at)
    of_abort (suc m) new l h =
        let x : Item = abort (suc m) in
        pays (subst (λ y. commands x + aborts x + r + f + 64 ≤ y) (sym (future_was s k)) (second_pays (commands x)
        (aborts x) commands_were aborts_were r f (fewer_commands x h) (aborts_pay s b (gives_up_at s b c x) x m 1
        s.aborts l.line new l.at (ap (λ z. abort z) (one_and m)) (few_tries s b c l.line.host x refl l.own))))

    of_sense : (w : ℕ) (d : CmdDef) → command_at s.commands w ≡ Some d → HasDevice s d.target
        → IsNext s b c (sense_item w) → Left (sense_item w)
    of_sense w d at there h =
        let x : Item = sense_item w in
        stays (λ e z. subst (HasDevice s) (sense_target s w e d at z) there)
        (subst (λ y. commands x + aborts x + r + f ≤ y) (sym (future_was s k))
        (both_less (commands x) (aborts x) commands_were aborts_were r f (fewer_commands x h) (fewer_aborts x)))

    its : (x : Item) → i ≡ x → IsItem s c x
    its x e = subst (IsItem s c) e (aims_are s p c i aim)

    by_kind : (x : Item) → i ≡ x → IsNext s b c x → Left x
    by_kind _ e (next_abort w new) = of_abort w new (its_line s c (abort w) (its (abort w) e) w refl) (next_abort w new)
    by_kind _ e (is_sense w d at own checked new) =
        of_sense w d at (checked_there s p w d o prompt checked at) (is_sense w d at own checked new)
    by_kind _ e (is_command w time d at own new may none) =
        of_command w d at own (is_command w time d at own new may none)

-- ---- the row

-- The caller releases all, and SEL falls.
record ReleasesAll (s : ScenarioValue) (p : List Row) (row : Row) (v m : Bool) (c i t0 t1 t2 t3 : ℕ) : Type 0 where
  parts : ApartParts s p row
  devices : AreOfDevices p
  below : row.dev < 8
  was : connection p ≡ None
  alone : connection (row ∷ p) ≡ None
  calm : (bus p).rst ≡ false
  next : (bus (row ∷ p)).rst ≡ false
  lines : is_fault row.kind ≡ false
  call_is : call p ≡ Some (withdrawn_call v m c i t0 t1 t2 t3)
  sel : (bus p).sel ≡ true
  low : (bus (row ∷ p)).sel ≡ false
  way : way_left (run_state s (row ∷ p)) ≡ 40
  pays : 5 + again_if v ≤ way_left (run_state s p)

-- What is sent after it.
released_sent : (s : ScenarioValue) (p : List Row) (row : Row) (v m : Bool) (c l t0 t1 t2 t3 : ℕ)
    → ReleasesAll s p row v m c l t0 t1 t2 t3 → (run_state s (row ∷ p)).story.sent
    ≡ (story_after_calling s (run_state s p).story (Some (withdrawn_call v m c l t0 t1 t2 t3))).sent
released_sent s p row v m c l t0 t1 t2 t3 h =
    let j : RunState = run_state s p in
    let d : RowReading = row_reading j.story.bus_state row in
    let entry : is_arbitration_entry j.story d ≡ false = (λ i. rises d.change.own.bsy d.change.next.bsy
    && not ((ap (λ (x : Change). x.before.sel) h.parts.change ∙ h.sel) i) && is_none j.story.bus_state.connection)
    ∙ none_between (rises d.change.own.bsy d.change.next.bsy) (is_none j.story.bus_state.connection) in
    let fall : falls d.change.before.sel d.change.after.sel ≡ true =
    ap (λ (x : Change). falls x.before.sel x.after.sel) h.parts.change ∙ (λ i. falls (h.sel i) (h.low i)) in
    let called : j.story.bus_state.call ≡ Some (withdrawn_call v m c l t0 t1 t2 t3) =
    (run_state_plain s p h.devices).call ∙ h.call_is in
    h.parts.sent ∙ (λ i. (free_by s j.story row (entry i) (fall i) (called i)).sent)

-- What is to come after it.
released_future : (s : ScenarioValue) (p : List Row) (row : Row) (v m : Bool) (c l t0 t1 t2 t3 : ℕ) (b : Sent)
    → ReleasesAll s p row v m c l t0 t1 t2 t3 → (run_state s (row ∷ p)).story.sent ≡ b
    → future_left s (run_state s (row ∷ p))
    ≡ future_by s b (run_state s p) (resets_left (run_state s p) s.resets) (run_state s p).faults
released_future s p row v m c l t0 t1 t2 t3 b h e =
    let j : RunState = run_state s p in
    future_is s p row h.parts (resets_calm s p row s.resets h.devices h.below h.calm h.next)
    ∙ (λ i. future_by s (e i) j (resets_left j s.resets) (if h.lines i then drop 1 j.faults else j.faults))

-- A device that is there was struck.
was_struck : (s : ScenarioValue) (p : List Row) (row : Row) (v m : Bool) (c i t0 t1 t2 t3 : ℕ) → Obeys s → IsPrompt s p
    → ReleasesAll s p row v m c i t0 t1 t2 t3 → HasDevice s i → 5 + 64 ≤ way_left (run_state s p)
was_struck s p row v m c i t0 t1 t2 t3 o prompt h there =
    let g : Calling = record (new_calling_at m i t1) { released = Some t2; withdrawn = Some t3; struck = v } in
    let struck : v ≡ true = struck_out s p o prompt h.was h.calm
    (withdrawn_call v m c i t0 t1 t2 t3) g h.call_is refl refl refl there.latency there.latency_is in
    subst (λ (x : Bool). 5 + again_if x ≤ way_left (run_state s p)) struck h.pays

releases : (s : ScenarioValue) (p : List Row) (row : Row) (v m : Bool) (c l t0 t1 t2 t3 : ℕ) → Obeys s → IsPrompt s p
    → ReleasesAll s p row v m c l t0 t1 t2 t3 → suc (measure s (row ∷ p)) ≤ measure s p
releases s p row v m c l t0 t1 t2 t3 o prompt h = falling s p row h.devices h.below h.was h.alone (by m h)
  where
    j : RunState
    j = run_state s p

    q : RunState
    q = run_state s (row ∷ p)

    w : Whole s p
    w = whole s p o prompt

    by : (m : Bool) → ReleasesAll s p row v m c l t0 t1 t2 t3
        → suc (future_left s q + way_left q) ≤ future_left s j + way_left j
    by false h =
        let g : Calling = record (new_calling_at false l t1) { released = Some t2; withdrawn = Some t3; struck = v } in
        let due : IsDueCall s p c g = w.stood.called h.was h.calm
        (withdrawn_call v false c l t0 t1 t2 t3) g h.call_is refl in
        let same : future_left s q ≡ future_left s j =
        released_future s p row v false c l t0 t1 t2 t3 j.story.sent h (released_sent s p row v false c l t0 t1 t2 t3 h)
        ∙ sym (future_was s j) in
        by_strike (future_left s q) (future_left s j) (way_left q) (way_left j)
        (subst (λ x. future_left s q ≤ x) same (omega arith)) h.way
        (was_struck s p row v false c l t0 t1 t2 t3 o prompt h (ready_there s p c l o w due.host_is due.callee_is))
    by true h = aimed (aim_of j.story.aims c) refl
      where
        g : Calling
        g = record (new_calling_at true l t1) { released = Some t2; withdrawn = Some t3; struck = v }

        due : IsDueCall s p c g
        due = w.stood.called h.was h.calm (withdrawn_call v true c l t0 t1 t2 t3) g h.call_is refl

        called : target_of s (aim_of j.story.aims c) ≡ Some l
        called =
            sym (ap (λ (x : Bool). if x then target_of s (aim_of j.story.aims c) else initiator_if (ready_of s j c))
            due.host_is) ∙ due.callee_is

        aimed : (x : Option Item) → aim_of j.story.aims c ≡ x
            → suc (future_left s q + way_left q) ≤ future_left s j + way_left j
        aimed None e = none_some l (sym (ap (target_of s) e) ∙ called)
        aimed (Some i) e =
            let b : Sent = sent_if (gives_up_at s j.story.sent c i) j.story.sent i in
            let sent : q.story.sent ≡ b = released_sent s p row v true c l t0 t1 t2 t3 h
            ∙ ap (λ (x : Option Item). (story_with_try s j.story c x).sent) e ∙ try_sent s j.story c i in
            let after = released_future s p row v true c l t0 t1 t2 t3 b h sent in
            ending b after (item_left s p c i o prompt e
            ((w.facts.items.aims h.was h.calm).calls (withdrawn_call v true c l t0 t1 t2 t3) h.call_is due.host_is i e))
            (sym (ap (target_of s) e) ∙ called)
          where
            ending : (b : Sent) → future_left s q ≡ future_by s b j (resets_left j s.resets) j.faults
                → ItemLeft s j b (target_of s (Some i)) → target_of s (Some i) ≡ Some l
                → suc (future_left s q + way_left q) ≤ future_left s j + way_left j
            ending b after (pays less) f = by_try (future_left s q) (future_left s j) (way_left q) (way_left j)
                (again_if v) (subst (λ x. x + 64 ≤ future_left s j) (sym after) less) h.way h.pays
            ending b after (stays there less) f = by_strike (future_left s q) (future_left s j)
                (way_left q) (way_left j) (subst (λ x. x ≤ future_left s j) (sym after) less) h.way
                (was_struck s p row v true c l t0 t1 t2 t3 o prompt h (there l f))

pub gives_up_falls : (s : ScenarioValue) (p : List Row) (row : Row) (v m : Bool) (c i t0 t1 t2 t3 : ℕ)
    → Obeys s → IsPrompt s p → ApartParts s p row → AreOfDevices p → row.dev < 8 → connection p ≡ None
    → connection (row ∷ p) ≡ None → (bus p).rst ≡ false → (bus (row ∷ p)).rst ≡ false → is_fault row.kind ≡ false
    → call p ≡ Some (withdrawn_call v m c i t0 t1 t2 t3) → (bus p).sel ≡ true → (bus (row ∷ p)).sel ≡ false
    → way_left (run_state s (row ∷ p)) ≡ 40 → 5 + again_if v ≤ way_left (run_state s p)
    → suc (measure s (row ∷ p)) ≤ measure s p
gives_up_falls s p row v m c i t0 t1 t2 t3 o prompt parts dv lt was alone calm next lines called sel low way credit =
    releases s p row v m c i t0 t1 t2 t3 o prompt (record {
      parts = parts;
      devices = dv;
      below = lt;
      was = was;
      alone = alone;
      calm = calm;
      next = next;
      lines = lines;
      call_is = called;
      sel = sel;
      low = low;
      way = way;
      pays = credit;
    })
