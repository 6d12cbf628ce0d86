-- All times in a view lie before this one.
use Rattle.std.specs.Prelude.{ℕ, ◌<◌, Option, Some, None, ⊤}
use Rattle.bus_trace.specs.View.{AreBefore}
use Rattle.bus_trace.specs.declared.arbitration.Arbitration.{Arbitration}
use Rattle.bus_trace.specs.declared.selection.Call.{Call}
use Rattle.bus_trace.specs.declared.selection.Calling.{Calling}
use Rattle.bus_trace.specs.declared.connection.Connection.{Connection}
use Rattle.bus_lines.specs.declared.stage.Stage.{Stage}
use Rattle.bus_lines.specs.declared.stage.Stage.TheVariants.{OnFreeBus, InArbitration, InCalling, InAnswer}
use Rattle.bus_lines.specs.declared.stage.Stage.TheVariants.{InConnection, InReset}
use Rattle.bus_lines.specs.Handshakes.{Handshakes, first_of, time_of, or_zero}
use Rattle.bus_lines.specs.BusView.{BusViewValue}

abbrev pub IsBefore : ℕ → Option ℕ → Type 0
IsBefore end None = ⊤
IsBefore end (Some time) = time < end

abbrev pub IsArbitrationBefore : ℕ → Option Arbitration → Type 0
IsArbitrationBefore end None = ⊤
IsArbitrationBefore end (Some a) = (a.free < end) × (a.first < end)

pub record IsCalledBefore (end : ℕ) (k : Calling) : Type 0 where
  pub at : k.at < end
  pub released : IsBefore end k.released
  pub withdrawn : IsBefore end k.withdrawn
  pub resumed : IsBefore end k.resumed
  pub answered : IsBefore end k.answered

abbrev pub IsCallingBefore : ℕ → Option Calling → Type 0
IsCallingBefore end None = ⊤
IsCallingBefore end (Some k) = IsCalledBefore end k

abbrev pub IsCallBefore : ℕ → Option Call → Type 0
IsCallBefore end None = ⊤
IsCallBefore end (Some c) = (c.at < end) × IsCallingBefore end c.calling

abbrev pub IsConnectionBefore : ℕ → Option Connection → Type 0
IsConnectionBefore end None = ⊤
IsConnectionBefore end (Some n) = n.began < end

pub record AreHandshakesBefore (end : ℕ) (h : Handshakes) : Type 0 where
  pub last_req : h.last_req < end
  pub last_ack : h.last_ack < end
  pub relieved : or_zero h.relieved < end
  pub oldest : time_of (first_of h.waiting) < end

abbrev pub IsStageBefore : ℕ → Stage → Type 0
IsStageBefore end (OnFreeBus free) = free < end
IsStageBefore end (InArbitration a) = (a.free < end) × (a.first < end)
IsStageBefore end (InCalling c) = (c.at < end) × IsCallingBefore end c.calling
IsStageBefore end (InAnswer c k answered) = (c.at < end) × (IsCalledBefore end k × (answered < end))
IsStageBefore end (InConnection n) = n.began < end
IsStageBefore end (InReset since) = since < end

pub record IsTimely (end : ℕ) (v : BusViewValue) : Type 0 where
  pub lines : AreBefore end v.lines
  pub arbitration : IsArbitrationBefore end v.arbitration
  pub call : IsCallBefore end v.call
  pub connection : IsConnectionBefore end v.connection
  pub handshakes : AreHandshakesBefore end v.handshakes
