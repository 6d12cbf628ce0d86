-- What holds after the rows of a prompt trace, stage by stage, as long as no connection stands.
use Rattle.std.specs.Prelude.{⊤, [], is_some, not, ◌&&◌, ℕ, ◌≡◌, ◌≢◌, ◌<◌, ◌≤◌, ◌+◌, ◌==◌, ◌⊎◌, Bool, true, false, List}
use Rattle.std.specs.Prelude.{◌∷◌, Some, None}
use Rattle.std.specs.Int.{bit_at}
use Rattle.due_model.specs.bus_trace.specs.LineSet.{LineSet, none, line_of}
use Rattle.due_model.specs.bus_trace.specs.declared.Row.{Row}
use Rattle.due_model.specs.bus_trace.specs.Trace.{drives, bus, last_time, since, since_line}
use Rattle.due_model.specs.bus_trace.specs.declared.arbitration.Arbitration.{Arbitration}
use Rattle.due_model.specs.bus_trace.specs.declared.selection.Call.{Call}
use Rattle.due_model.specs.bus_trace.specs.declared.selection.Calling.{Calling}
use Rattle.due_model.specs.bus_trace.specs.declared.connection.Connection.{Connection}
use Rattle.due_model.specs.bus_trace.specs.Terms.{raised, connection}
use Rattle.due_model.specs.bus_rules.specs.Lawful.{AreLawful}
use Rattle.due_model.specs.bus_rules.specs.Rules.{broken_rule}
use Rattle.due_model.specs.scenario.specs.Value.{ScenarioValue}
use Rattle.due_model.specs.story_model.specs.Samples.{latency_of}
use Rattle.due_model.specs.reaction_model.specs.declared.due.Due.{Due}
use Rattle.due_model.specs.reaction_model.specs.FreeBus.{contender_lines}
use Rattle.due_model.specs.RunSteps.{run_state}
use Rattle.due_model.specs.Plain.{AreOfDevices}
use Rattle.bus_laws.specs.Reactions.{own_time}
use Rattle.bus_laws.specs.Reactions.{unreset_due}
use Rattle.due_model.specs.bus_rules.specs.Reset.{only_rst}
use Rattle.due_model.specs.Own.{own_of}
use Rattle.due_model.specs.Next.{due}
use Rattle.bus_laws.specs.Rows.{Stands}
use Rattle.bus_laws.specs.Ends.{BeginsConnection}
use Rattle.bus_laws.specs.Callings.{arbitration_bus, won_bus, both_ids, begun_call, calling_lines, answer_lines}
use Rattle.bus_laws.specs.Callings.{awaiting_call, withdrawn_call, answered_calling, resumed_calling}

-- No device of the scenario has a latency above 100 ns.
pub record HasShortLatencies (s : ScenarioValue) : Type 0 where
  pub latency : (d lat : ℕ) → latency_of s d ≡ Some lat → lat ≤ 100

-- Nothing that is due, resets apart, lies before this time.
abbrev pub AreAhead : ScenarioValue → List Row → ℕ → Type 0
AreAhead s p time = (d : ℕ) → d < 8 → (x : Due) → unreset_due s p d ≡ Some x → time ≤ x.time

-- What holds in every stage while RST is false: the rows obey the rules, and no time in what stands is later than the
-- last row.
pub record CalmStanding (s : ScenarioValue) (p : List Row) : Type 0 where
  pub devices : AreOfDevices p
  pub lawful : AreLawful p
  pub ahead : AreAhead s p (last_time p)
  pub past : (on : LineSet → Bool) → since_line on p ≤ last_time p
  pub seen_past : (see : LineSet → ℕ) → since see p ≤ last_time p
  pub own_past : (d : ℕ) → own_time p d ≤ last_time p

-- The bus is free, and no device drives a line (6.1.1).
pub record FreeBus (s : ScenarioValue) (p : List Row) : Type 0 where
  pub stands : Stands p none None None None
  pub quiet : (d : ℕ) → d < 8 → drives p d ≡ none
  pub link : (run_state s p).story.link ≡ None

-- A contender drives BSY and its ID since its entry (6.1.2).
pub record IsContender (s : ScenarioValue) (p : List Row) (a : Arbitration) (d : ℕ) : Type 0 where
  pub drive : drives p d ≡ contender_lines d
  pub lat : ℕ
  pub there : latency_of s d ≡ Some lat
  pub entered : a.first ≤ own_time p d
  pub raised_at : raised (λ x. x.bsy) p d ≡ own_time p d

-- In arbitration each device is a contender or drives nothing; the last entry is at most a bus set delay after the
-- first (6.1.2).
pub record Arbitrating (s : ScenarioValue) (p : List Row) (a : Arbitration) : Type 0 where
  pub stands : Stands p (arbitration_bus (bus p).data_bits) (Some a) None None
  pub each : (d : ℕ) → d < 8 → (drives p d ≡ none) ⊎ IsContender s p a d
  pub early : a.first ≤ last_time p
  pub late : last_time p ≤ a.first + 1800
  pub link : (run_state s p).story.link ≡ None

-- A contender that has lost, and has not released its lines yet (6.1.2).
pub record IsLoser (s : ScenarioValue) (p : List Row) (d : ℕ) : Type 0 where
  pub drive : drives p d ≡ contender_lines d
  pub lat : ℕ
  pub there : latency_of s d ≡ Some lat

-- A contender has won: SEL has risen, and the caller does not drive both IDs yet (6.1.2).
pub record ArbitrationWon (s : ScenarioValue) (p : List Row) (c : ℕ) (t : ℕ) : Type 0 where
  pub stands : Stands p (won_bus (bus p).data_bits) None
      (let h : Call = record { caller = c; at = t; calling = None } in Some h) None
  pub caller_below : c < 8
  pub caller : drives p c ≡ record (contender_lines c) { sel = true }
  pub lat : ℕ
  pub there : latency_of s c ≡ Some lat
  pub caller_time : own_time p c ≡ t
  pub sel_age : since_line (λ x. x.sel) p ≡ t
  pub each : (d : ℕ) → d < 8 → d ≢ c → (drives p d ≡ none) ⊎ IsLoser s p d
  pub link : (run_state s p).story.link ≡ None

-- From the row that drives both IDs on: the caller c drives x, the called device d drives y, no other device a line,
-- and so the bus is b (6.1.3, 6.1.4).
pub record Calls (s : ScenarioValue) (p : List Row) (h : Call) (c d : ℕ) (x y b : LineSet) : Type 0 where
  pub stands : Stands p b None (Some h) None
  pub caller_below : c < 8
  pub called_below : d < 8
  pub apart : c ≢ d
  pub caller : drives p c ≡ x
  pub other : drives p d ≡ y
  pub rest : (e : ℕ) → e < 8 → e ≢ c → e ≢ d → drives p e ≡ none
  pub link : (run_state s p).story.link ≡ None

-- The caller has released BSY at t2, and awaits the answer; a fault has struck the called device (v), or not. The data
-- lines are x, on which the ID of the called device is true.
pub record AwaitsAnswer (s : ScenarioValue) (p : List Row) (v m : Bool) (c i t0 t1 t2 x : ℕ) : Type 0 where
  pub here : Calls s p (awaiting_call v m c i t0 t1 t2) c i (calling_lines m false x) none (calling_lines m false x)
  pub bsy_age : since_line (λ z. z.bsy) p ≡ t2
  pub sel_age : since_line (λ z. z.sel) p ≤ t2
  pub id_age : since (line_of i) p ≤ t2
  pub shows : (bit_at x i == 1) ≡ true
  pub some : (x == 0) ≡ false

-- The called device drives BSY, and the caller BSY again (b), or not yet.
pub record IsAnswered (s : ScenarioValue) (p : List Row) (g : Calling) (c i t0 : ℕ) (m b : Bool) (x : ℕ) : Type 0 where
  pub here : Calls s p (record { caller = c; at = t0; calling = Some g }) c i (calling_lines m b x) answer_lines
      (calling_lines m true x)
  pub some : (x == 0) ≡ false

-- The scenario has this device.
pub record HasDevice (s : ScenarioValue) (d : ℕ) : Type 0 where
  pub latency : ℕ
  pub latency_is : latency_of s d ≡ Some latency

-- Under RST a device drives RST alone since it raised it; or it drives nothing, or what it has not released yet
-- (6.2.2).
pub record HoldsReset (p : List Row) (d : ℕ) : Type 0 where
  pub drive : drives p d ≡ only_rst
  pub raised_at : raised (λ x. x.rst) p d ≡ (own_of p d).rst
  pub not_before : since_line (λ x. x.rst) p ≤ (own_of p d).rst

pub data IsUnderRst (p : List Row) (d : ℕ) : Type 0 where
  quiet : drives p d ≡ none → IsUnderRst p d
  holds : HoldsReset p d → IsUnderRst p d
  lingers : (drives p d).rst ≡ false → IsUnderRst p d

pub record UnderRst (s : ScenarioValue) (p : List Row) : Type 0 where
  pub reset : (bus p).rst ≡ true
  pub each : (d : ℕ) → d < 8 → IsUnderRst p d
  pub link : (run_state s p).story.link ≡ None

-- The stages. In both directions of a calling m says that the caller selects; c is the caller, i the called device, t0
-- the time of the rise of SEL, t1 that of the IDs, t2 that of the release of BSY, t3 that of the withdrawal or of the
-- answer, t4 that of BSY again.
pub data BusStage (s : ScenarioValue) (p : List Row) : Type 0 where
  on_free_bus : FreeBus s p → BusStage s p
  in_arbitration : (a : Arbitration) → Arbitrating s p a → BusStage s p
  after_arbitration : (c t : ℕ) → ArbitrationWon s p c t → BusStage s p
  with_both_ids : (m : Bool) (c i t0 t : ℕ) → own_time p c ≡ t
      → Calls s p (begun_call m c i t0 t) c i (both_ids m c i) none (both_ids m c i) → BusStage s p
  awaiting_answer : (v m : Bool) (c i t0 t1 t2 x : ℕ) → AwaitsAnswer s p v m c i t0 t1 t2 x → BusStage s p
  after_withdrawal : (v m : Bool) (c i t0 t1 t2 t3 : ℕ) → own_time p c ≡ t3
      → Calls s p (withdrawn_call v m c i t0 t1 t2 t3) c i (calling_lines m false 0) none (calling_lines m false 0)
      → BusStage s p
  after_answer : (m : Bool) (c i t0 t1 t2 t3 x : ℕ) → IsAnswered s p (answered_calling m i t1 t2 t3) c i t0 m false x
      → BusStage s p
  after_takeover : (c i t0 t1 t2 t3 t4 x : ℕ) → own_time p c ≡ t4 → since_line (λ z. z.io) p ≤ t4
      → IsAnswered s p (resumed_calling i t1 t2 t3 t4) c i t0 false true x → BusStage s p
  in_reset : UnderRst s p → BusStage s p
  in_connection : (n : Connection) → connection p ≡ Some n → (bus p).rst ≡ false → BeginsConnection p n → BusStage s p

-- What a row does that is the first due, resets apart. What is due once a connection stands is not said here.
pub record NextCalmRow (s : ScenarioValue) (p : List Row) (row : Row) : Type 0 where
  pub order : last_time p ≤ row.time
  pub obeys : broken_rule p row ≡ None
  pub calm : (bus (row ∷ p)).rst ≡ false
  pub ahead : connection (row ∷ p) ≡ None → AreAhead s (row ∷ p) row.time
  pub here : BusStage s (row ∷ p)

-- ---- with resets

-- A connection stands, and RST is false.
abbrev pub is_connected : List Row → Bool
is_connected p = is_some (connection p) && not (bus p).rst

-- What holds after the rows of a prompt trace while no connection stands: they obey the rules, nothing that is due lies
-- in the past, no time is later than the last row's, and who drives a line is a device of the scenario.
pub record Standing (s : ScenarioValue) (p : List Row) : Type 0 where
  pub devices : AreOfDevices p
  pub lawful : AreLawful p
  pub ahead : (d : ℕ) → d < 8 → (x : Due) → due s p d ≡ Some x → last_time p ≤ x.time
  pub past : (on : LineSet → Bool) → since_line on p ≤ last_time p
  pub seen_past : (see : LineSet → ℕ) → since see p ≤ last_time p
  pub own_past : (d : ℕ) → own_time p d ≤ last_time p
  pub there : (d : ℕ) → d < 8 → (drives p d ≡ none) ⊎ HasDevice s d

-- What the next row does: it is not before the last, it obeys all rules, a stage stands after it, and nothing that is
-- due lies in the past.
pub record NextRow (s : ScenarioValue) (p : List Row) (row : Row) : Type 0 where
  pub order : last_time p ≤ row.time
  pub obeys : broken_rule p row ≡ None
  pub ahead : is_connected (row ∷ p) ≡ false → (d : ℕ) → d < 8 → (x : Due) → due s (row ∷ p) d ≡ Some x
      → row.time ≤ x.time
  pub here : BusStage s (row ∷ p)

-- No connection stands after any of these rows, but under RST.
abbrev pub HaveNoConnection : List Row → Type 0
HaveNoConnection [] = ⊤
HaveNoConnection (row ∷ rows) = HaveNoConnection rows × (is_connected (row ∷ rows) ≡ false)
