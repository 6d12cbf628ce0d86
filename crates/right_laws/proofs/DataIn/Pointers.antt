-- Of a prompt trace: the data pointers of the processes that do not write, after each row; where they stand as a byte
-- of DATA IN crosses, and as a process runs (6.1.5.1, 6.6.6, 6.6.20).
use Rattle.right_laws.proofs
use proofs.Names.{ℕ, ◌≡◌, ◌⊎◌, inl, inr, ◌+◌, ◌≤◌, ◌<◌, ◌^◌, arith, Bool, true, false, not, ◌&&◌, ◌==◌, ◌∙◌, List, []}
use proofs.Names.{◌∷◌, Option, Some, None, refl, sym, ap, subst, ltb-false, if◌then◌else◌, is_some, nat_lt, wrong}
use proofs.Names.{ProcId, change_of, rises, LineSet, changes_phase, connection, receiver_of, bus, Row, Change}
use proofs.Names.{Connection, Handshakes, handshakes, ScenarioValue, Obeys, array_after, Process, process_of}
use proofs.Names.{row_reading, process, has_item, sense_item, is_open_sense, Story, policy_of, run_at, run_length}
use proofs.Names.{is_pulsed_phase, begun, phase_of, follows_in, run_length_if, Phase, Task, run_state_plain}
use proofs.Names.{target_def_of, IsPlain, RunState, bus_of, carried_here, run_state, offering_of, serving_of, task_if}
use proofs.Names.{task_of, obeys_fits, IsOver, change_plain, least_is, runs_are_short, run_count, by_bool}
use proofs.Names.{connection_row, RowFacts, ends_here, writes_there, IsServedAnew, ItemFacts, OfferFacts, command_over}
use proofs.Names.{pulses_here, IsServedWell, RunsBy, crossing_stands, active_is, crossing_begun, kind_next, raised_rst}
use proofs.{Names.{task_here, turns_by, FitsRuns, runs_first, served_id, PointsAtCrossing}, DataIn.Counts.{IsReader}}
use proofs.{DataIn.{Counts.{IsRunCounted, ReadRow, none_asked}, Runs.{fits_reads}}, Given.Crossings.{req_rises}}
use proofs.{Offers.{Facts.{data_in_carries}, Steps.{is_data_in}}, Ran.Facts.{Known}}
use Rattle.trace_laws.specs.row_laws.proofs.Lines.Crossings.{stays}

abbrev pub ReadPointers : ScenarioValue → List Row → Type 0
ReadPointers s p = RunsBy IsReader s (run_state s p)

pub pointers_first : (s : ScenarioValue) → ReadPointers s []
pointers_first s = runs_first IsReader s

-- ---- as DATA IN is left all bytes of the run were asked for

pub in_data : (b : LineSet) → phase_of b ≡ Phase.DataIn → is_data_in b ≡ true
in_data b e = go b.msg b.cd b.io e
  where
    go : (m d i : Bool) → (if m then (if i then Phase.MessageIn else Phase.MessageOut)
        else if d then (if i then Phase.Status else Phase.Command) else if i then Phase.DataIn else Phase.DataOut)
        ≡ Phase.DataIn → (not m && not d && i) ≡ true
    go true d true z = absurd cc
    go true d false z = absurd cc
    go false true true z = absurd cc
    go false true false z = absurd cc
    go false false true z = refl
    go false false false z = absurd cc

both_ways : (a b : ℕ) → a ≤ b → b ≤ a → a ≡ b
both_ways a b h k = omega (arith, h, k)

either_same : {A : Type 0} (q : Bool) (x : A) → (if q then x else x) ≡ x
either_same true x = refl
either_same false x = refl

pub read_done : (s : ScenarioValue) (p : List Row) (row : Row) (n : Connection)
    → ReadRow s p row → connection p ≡ Some n → (bus p).rst ≡ false → (bus (row ∷ p)).rst ≡ false
    → connection (row ∷ p) ≡ Some n → begun p ≡ true → changes_phase (change_of p row) ≡ true
    → (t : Task) → task_of s (run_state s p) ≡ Some t → phase_of (bus_of (run_state s p)) ≡ Phase.DataIn
    → (run_state s p).handshakes.requests ≡ run_length (policy_of (target_def_of s n.target)) t
read_done s p row n w con calm off after b ep t task phase =
    by (connection_row s p row n w.obeys w.prompt w.known.was con calm off).facts
  where
    k : RunState
    k = run_state s p

    pl : IsPlain s p k
    pl = w.known.was.plain

    counts : IsRunCounted s p n
    counts = w.counts n con calm b (ap is_data_in (sym pl.bus) ∙ in_data (bus_of k) phase)

    run : run_count s p n ≡ run_length (policy_of (target_def_of s n.target)) t
    run = ap (run_length_if (policy_of (target_def_of s n.target))) task

    follows : (offering_of s k n.target).follows ≡ nat_lt (handshakes p).requests (run_count s p n)
    follows = (λ i. if is_pulsed_phase ((pl.begun ∙ b) i) (pl.bus i) (pl.dialogue i).heard.now.agreement
        then nat_lt (pl.handshakes i).requests (run_count s p n)
        else follows_in (serving_of s k n.target) (pl.handshakes i) (bus_of k).atn (phase i))
        ∙ either_same (pulses_here p) (nat_lt (handshakes p).requests (run_count s p n))

    over : IsOver s k n → (handshakes p).requests ≡ run_count s p n
    over v = both_ways (handshakes p).requests (run_count s p n) counts.few
        (ltb-false (handshakes p).requests (run_count s p n) (sym follows ∙ v.follows))

    by : RowFacts s p row n → k.handshakes.requests ≡ run_length (policy_of (target_def_of s n.target)) t
    by (stays g) =
        let same : g.change ≡ change_of p row = sym g.row_is.change_is
        ∙ change_plain s row p w.known.was.standing.devices (least_is s p row w.prompt.1).inside in
        ap (λ (h : Handshakes). h.requests) pl.handshakes ∙ over (g.over (ap changes_phase same ∙ ep) b) ∙ run
    by (ends_here g) = none_connection (sym g.stopped ∙ after)
      where
        none_connection : {A : Type 0} → (let x : Option Connection = None in x) ≡ Some n → A
        none_connection e = absurd cc

-- ---- the next row

-- An automatic REQUEST SENSE is open only while it is served, and RST is false.
sense_over : (s : ScenarioValue) (p : List Row) (id : ProcId) → ItemFacts s p → id.sense ≡ true
    → (bus_of (run_state s p)).rst ≡ true → has_item (run_state s p).story.sent.sent (process id) ≡ true
    → has_item (run_state s p).story.sent.over (process id) ≡ true
sense_over s p id items sense on sent = by_bool (has_item k.story.sent.over (process id))
    (λ e. e) (λ e. let opens : is_open_sense k.story.sent id.command ≡ true =
    (λ i. has_item k.story.sent.sent (sym is i) && not (has_item k.story.sent.over (sym is i)))
    ∙ (λ i. sent i && not (e i)) in wrong (sym on ∙ (items.items.senses id.command opens).1))
  where
    k : RunState
    k = run_state s p

    is : process id ≡ sense_item id.command
    is = λ i. process (record { command = id.command; sense = sense i })

-- In DATA IN far fewer bytes are asked for than are counted.
requests_few : (s : ScenarioValue) (p : List Row) (n : Connection) → Obeys s → IsRunCounted s p n
    → (handshakes p).requests + 1 < 2 ^ 64
requests_few s p n o counts =
    let asked = counts.few in
    let run = runs_are_short s (obeys_fits s o) p n in
    omega (arith, asked, run)

-- What is asked of it beside: that the process of a connection that begins is neither over nor has shown a reply.
pub record ReadPremises (s : ScenarioValue) (p : List Row) (row : Row) : Type 0 where
  pub anew : (n : Connection) → connection p ≡ None → connection (row ∷ p) ≡ Some n → IsServedAnew s (run_state s p) n
  pub items : ItemFacts s (row ∷ p)
  pub sent : (id : ProcId) → (run_state s p).served ≡ Some (process id)
      → has_item (run_state s (row ∷ p)).story.sent.sent (process id) ≡ true
  pub offers : OfferFacts s p

pub pointers_next : (s : ScenarioValue) (p : List Row) (row : Row) → ReadRow s p row → ReadPremises s p row
    → ReadPointers s (row ∷ p)
pointers_next s p row w asked =
    kind_next IsReader s p row w.obeys w.prompt h.was h.next asked.offers (record {
      anew = asked.anew;
      stops = stops;
      turns = λ n q con calm off after b ep served reads to. turns_by s k n q
          (fits_reads s k q w.obeys (pl.array ∙ ap (λ (x : Story). array_after s x.history) (sym pl.story))
          (served_id s k.served q served).1 reads) served to
          (λ e struck. wrong (sym (writes_there s k q (h.was.planned n con calm) (pl.begun ∙ b) served e) ∙ reads))
          (λ e. read_done s p row n w con calm off after b ep (task_here s k q) (ap (task_if s k) served) e);
      few = λ n q con calm served reads b phase. wrong
          (sym (writes_there s k q (h.was.planned n con calm) (pl.begun ∙ b) served (ap phase_of pl.bus ∙ phase))
          ∙ reads);
      few_asked = λ n q con calm served reads b phase. requests_few s p n w.obeys
          (w.counts n con calm b (in_data (bus p) phase));
    }) w.pointers
  where
    h : Known s p row
    h = w.known

    k : RunState
    k = run_state s p

    lt : row.dev < 8
    lt = (least_is s p row w.prompt.1).inside

    pl : IsPlain s p k
    pl = h.was.plain

    pl2 : IsPlain s (row ∷ p) (run_state s (row ∷ p))
    pl2 = run_state_plain s (row ∷ p) h.next.stood.standing.devices

    c : (row_reading k.story.bus_state row).change ≡ change_of p row
    c = change_plain s row p h.was.standing.devices lt

    stops : (q : Process) → process_of s q.id ≡ Some q → IsReader q
        → k.served ≡ Some (process q.id) → (bus p).rst ≡ false → (bus (row ∷ p)).rst ≡ true
        → has_item (run_state s (row ∷ p)).story.sent.over (process q.id) ≡ true
    stops q own reads served calm on = by_bool q.id.sense (λ e. sense_over s
        (row ∷ p) q.id asked.items e (ap (λ (l : LineSet). l.rst) pl2.bus ∙ on) (asked.sent q.id served))
        (λ e. command_over s k row q.id q own e (h.places.sent q.id served) (ap (λ (x : Change). x.after.rst) c ∙ on)
        (ap (λ (x : Change). rises x.own.rst x.next.rst) c ∙ raised_rst p row lt calm on))

-- ---- a byte of DATA IN crosses

pub points_at : (s : ScenarioValue) (p : List Row) (row : Row) → ReadRow s p row
    → PointsAtCrossing s (run_state s p) row
points_at s p row w n q t con served task reads crosses phase = record {
  active_is = subst (λ (x : ℕ). (carried_here k q.id).moved.active
      ≡ (run_at (policy_of (target_def_of s x)) t t.runs).start + k.handshakes.requests) well.target_is
      (active_is s k q t k.handshakes.requests f served task phase refl (pl.begun ∙ b) (λ l x. x.active) well.pointers);
  more = subst (λ (x : ℕ). x < run_length (policy_of (target_def_of s n.target)) t) (ap (λ (y : Handshakes). y.requests)
      (sym pl.handshakes)) (subst (λ (x : ℕ). (handshakes p).requests < x) run asked);
}
  where
    h : Known s p row
    h = w.known

    k : RunState
    k = run_state s p

    lt : row.dev < 8
    lt = (least_is s p row w.prompt.1).inside

    pl : IsPlain s p k
    pl = h.was.plain

    c : (row_reading k.story.bus_state row).change ≡ change_of p row
    c = change_plain s row p h.was.standing.devices lt

    g : Rattle.right_laws.proofs.Ran.Crossings.GoesSo s k row
    g = Rattle.right_laws.proofs.Ran.Crossings.crossing_goes s k row h.next.row_is crosses

    con_p : connection p ≡ Some n
    con_p = sym pl.connection ∙ con

    calm : (bus p).rst ≡ false
    calm = ap (λ (l : LineSet). l.rst) (sym pl.bus) ∙ g.goes.calm

    off : (bus (row ∷ p)).rst ≡ false
    off = ap (λ (x : Change). x.after.rst) (sym c ∙ g.goes.row_is.change_is) ∙ g.goes.row_is.calm

    after : connection (row ∷ p) ≡ Some n
    after = crossing_stands s p row n w.obeys w.prompt h.was con_p calm off crosses

    b : begun p ≡ true
    b = crossing_begun s p row n w.obeys w.prompt h.was con_p calm off lt crosses

    well : IsServedWell s k n q
    well = w.pointers.served n q con g.goes.calm served reads

    f : FitsRuns s k q (task_here s k q)
    f = fits_reads s k q w.obeys (pl.array ∙ ap (λ (x : Story). array_after s x.history) (sym pl.story))
        (served_id s k.served q served).1 reads

    here : is_data_in (bus p) ≡ true
    here = ap is_data_in (sym pl.bus) ∙ in_data (bus_of k) phase

    io : (change_of p row).before.io ≡ true
    io = (Rattle.right_laws.proofs.Offers.Facts.data_parts (bus p) here).2

    counts : IsRunCounted s p n
    counts = w.counts n con_p calm b here

    run : run_count s p n ≡ run_length (policy_of (target_def_of s n.target)) t
    run = ap (run_length_if (policy_of (target_def_of s n.target))) task

    asked : (handshakes p).requests < run_count s p n
    asked = of (data_in_carries s p row n w.obeys w.prompt h.was h.next w.offers con_p calm after off here
        (req_rises n (change_of p row) io ((λ i. is_some (receiver_of (sym con i) (sym c i))) ∙ crosses))).asked
      where
        of : (((handshakes p).requests == 0) ≡ true) ⊎ ((handshakes p).requests < run_count s p n)
            → (handshakes p).requests < run_count s p n
        of (inl z) = none_asked (handshakes p).requests (run_count s p n) z counts.some
        of (inr z) = z
