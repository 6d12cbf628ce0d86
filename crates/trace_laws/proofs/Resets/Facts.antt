-- A connection of a prompt trace that still stands under RST.
use Rattle.trace_laws.proofs
use proofs.Names.{inr, ◌≡◌, Bool, true, false, not, ◌&&◌, ◌||◌, ◌∙◌, List, [], ◌∷◌, Some, None, refl, sym, ap}
use proofs.Names.{if◌then◌else◌, wrong, wrong', same_self, change_of, falls, same_phase, LineSet, same, changes_phase}
use proofs.Names.{is_data, call, connection, connection_of, connection_after, bus, Row, Change, Connection}
use proofs.Names.{ScenarioValue, Obeys, RowReading, row_reading, phase_of, Phase, run_state_plain, IsLeast, due}
use proofs.Names.{IsPrompt, IsPlain, RunState, bus_of, process_item, process_served, run_state, exchange_after}
use proofs.Names.{served_after, leaving_of, is_writing, obeys_fits, seats_are, is_data_in, change_plain, least_is}
use proofs.Names.{by_calm, reset_or_calm, by_reset, link_calm, AnyStage, linked, LinkStage, commands_are, byte_values}
use proofs.Names.{none_some, by_bool, by_option, stage_of_connection, RowFacts, row_facts, stays, ends_here, under_rst}
use proofs.Names.{Stood, NextStood, values_of, is_directed, writes_of, LinkRow, link_row, ReadsUnderRst, OfTarget}
use proofs.{Names.{ResetFacts}, Resets.Rows.{IsReleasing, PhaseIs, releasing, of_stage, of_target_next, data_kept}}
use proofs.Writes.Rows.{in_lines}
use Rattle.story_laws.specs.link_laws.specs.LinkStages.{apart}

pub resets_start : (s : ScenarioValue) → ResetFacts s []
resets_start s = record { lines = λ n e. none_some n e; reads = λ n p e. none_some n e }

-- ---- a row after which it stands, and RST is true

record Lasts (s : ScenarioValue) (p : List Row) (row : Row) (n : Connection) : Type 0 where
  before : connection p ≡ Some n
  row_is : IsReleasing row
  lines : OfTarget p n

stood_before : (p : List Row) (row : Row) (n : Connection) → (bus (row ∷ p)).rst ≡ true → connection (row ∷ p) ≡ Some n
    → connection p ≡ Some n
stood_before p row n on e =
    by_option (connection p) (λ f. none_some n (sym ((λ i. connection_after (f i) (call p) (change_of p row) row)
    ∙ (λ i. if falls (bus p).sel (bus (row ∷ p)).sel && (bus (row ∷ p)).bsy && not (on i)
    then connection_of (call p) row.time else None) ∙ off (falls (bus p).sel (bus (row ∷ p)).sel) (bus (row ∷ p)).bsy)
    ∙ e)) (λ m f. f ∙ kept m (bus (row ∷ p)).bsy (sym (λ i. connection_after (f i) (call p) (change_of p row) row) ∙ e))
  where
    off : (a b : Bool) → (if a && b && false then connection_of (call p) row.time else None) ≡ None
    off true true = refl
    off true false = refl
    off false b = refl

    kept : (m : Connection) (q : Bool) → (if q then Some m else None) ≡ Some n → Some m ≡ Some n
    kept m true z = z
    kept m false z = none_some n z

lasts : (s : ScenarioValue) (p : List Row) (row : Row) (n : Connection) → Obeys s → IsPrompt s (row ∷ p) → Stood s p
    → ResetFacts s p → connection (row ∷ p) ≡ Some n → (bus (row ∷ p)).rst ≡ true → Lasts s p row n
lasts s p row n o prompt was h after on = by_bool (bus p).rst (λ e. under e was.here) (λ e. calm e)
  where
    m : IsLeast (due s p) 8 row
    m = least_is s p row prompt.1

    con : connection p ≡ Some n
    con = stood_before p row n on after

    under : (bus p).rst ≡ true → AnyStage s p → Lasts s p row n
    under e (linked x k) = wrong (sym e ∙ link_calm s p x k)
    under e (apart k alone) =
        record { before = con; row_is = releasing s p row was.standing (under_rst s p k e) m; lines = h.lines n con e }

    calm : (bus p).rst ≡ false → Lasts s p row n
    calm e = elim (reset_or_calm s p row was.standing e m) [
      | by_reset z ↦ record { before = con; row_is = inr z; lines = of_stage s p n stage }
      | by_calm always least ↦ goes (facts (link_row s p row n was.standing.devices stage least))
    ]
      where
        stage : LinkStage s p n
        stage = stage_of_connection s p n was con e

        facts : LinkRow s p n row → RowFacts s p row n
        facts link = row_facts s p row n was.standing.devices (values_of s p n (commands_are s o) was.standing.devices
            (byte_values s p n o (seats_are s (obeys_fits s o)) was.standing.devices)) (was.driven n con e) link

        goes : RowFacts s p row n → Lasts s p row n
        goes (ends_here f) = none_some n (sym f.stopped ∙ after)
        goes (stays f) =
            wrong (sym on ∙ ap (λ (c : Change). c.after.rst) (sym (change_plain s row p was.standing.devices m.inside))
            ∙ ap (λ (c : Change). c.after.rst) f.row_is.change_is ∙ f.row_is.calm)

-- ---- whose data come

same_of : (b a : LineSet) → PhaseIs b a → same_phase a b ≡ true
same_of b a e =
    (λ i. same a.msg (e.msg i) && same a.cd (e.cd i) && same a.io (e.io i))
    ∙ (λ i. same_self a.msg i && same_self a.cd i && same_self a.io i)

reads_next : (s : ScenarioValue) (p : List Row) (row : Row) → Obeys s → IsPrompt s (row ∷ p) → Stood s p
    → NextStood s p row → ResetFacts s p → ReadsUnderRst s (row ∷ p)
reads_next s p row o prompt was nx h n x after on begun phase served = go (bus p).rst refl
  where
    k : RunState
    k = run_state s p

    j : RunState
    j = run_state s (row ∷ p)

    d : RowReading
    d = row_reading k.story.bus_state row

    ql : IsPlain s (row ∷ p) j
    ql = run_state_plain s (row ∷ p) nx.stood.standing.devices

    w : Lasts s p row n
    w = lasts s p row n o prompt was h after on

    io : (bus (row ∷ p)).io ≡ true
    io = ap (λ (l : LineSet). l.io) (sym ql.bus) ∙ (in_lines (bus_of j) (ap is_data_in phase)).1

    same_lines : PhaseIs (bus (row ∷ p)) (bus p)
    same_lines = data_kept p row n w.row_is w.lines io

    before : phase_of (bus_of k) ≡ Phase.DataIn
    before = ap phase_of was.plain.bus
        ∙ (λ i. if sym same_lines.msg i then (if sym same_lines.io i then Phase.MessageIn else Phase.MessageOut)
        else if sym same_lines.cd i then (if sym same_lines.io i then Phase.Status else Phase.Command)
        else if sym same_lines.io i then Phase.DataIn else Phase.DataOut)
        ∙ ap phase_of (sym ql.bus) ∙ phase

    here : k.story.bus_state.connection ≡ Some n
    here = was.plain.connection ∙ w.before

    next : d.next ≡ Some n
    next = ql.connection ∙ after

    still : changes_phase d.change ≡ false
    still = ap changes_phase (change_plain s row p was.standing.devices (least_is s p row prompt.1).inside)
        ∙ ap not (same_of (bus (row ∷ p)) (bus p) same_lines)

    begun_before : k.exchange.begun ≡ true
    begun_before =
        sym ((λ i. (exchange_after s k row d (here i) (next i) (leaving_of s k k.story.bus_state.connection)).begun)
        ∙ (λ i. still i || k.exchange.begun)) ∙ begun

    served_before : process_served s k ≡ Some x
    served_before = sym (ap (process_item s) (λ i. served_after s k (here i) (next i))) ∙ served

    go : (q : Bool) → (bus p).rst ≡ q → is_writing x ≡ false
    go true e = h.reads n x w.before e begun_before before served_before
    go false e = by_bool (is_writing x)
        (λ f. wrong' (sym (λ i. not (f i)) ∙ sym (λ i. is_directed (lines.1 i) (writes_of (served_before i)))
        ∙ (was.planned n w.before e).serves begun_before lines.0)) (λ f. f)
      where
        lines : (is_data (bus_of k) ≡ true) × ((bus_of k).io ≡ true)
        lines = in_lines (bus_of k) (ap is_data_in before)

-- ---- any row

pub resets_next : (s : ScenarioValue) (p : List Row) (row : Row) → Obeys s → IsPrompt s (row ∷ p) → Stood s p
    → NextStood s p row → ResetFacts s p → ResetFacts s (row ∷ p)
resets_next s p row o prompt was nx h = record {
  lines = λ n e on. let w = lasts s p row n o prompt was h e on in of_target_next p row n w.row_is w.lines;
  reads = reads_next s p row o prompt was nx h;
}
