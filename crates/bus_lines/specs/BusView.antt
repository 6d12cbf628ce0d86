-- The running view of the bus, as devices have it.
use Rattle.std.specs.Prelude.{◌≡◌, List, Option}
use Rattle.bus_trace.specs.View.{View}
use Rattle.bus_trace.specs.Trace.{IsViewOf}
use Rattle.bus_trace.specs.declared.Row.{Row}
use Rattle.bus_trace.specs.declared.arbitration.Arbitration.{Arbitration}
use Rattle.bus_trace.specs.declared.selection.Call.{Call}
use Rattle.bus_trace.specs.declared.connection.Connection.{Connection}
use Rattle.bus_lines.specs.declared.effect.RowEffect.{RowEffect}
use Rattle.bus_trace.specs.Terms.{arbitration, call, connection}
use Rattle.bus_lines.specs.Effect.{effect}
use Rattle.bus_lines.specs.Handshakes.{Handshakes, handshakes}

pub record BusViewValue : Type 0 where
  -- the view of the lines
  pub lines : View
  -- what stands
  pub arbitration : Option Arbitration
  pub call : Option Call
  pub connection : Option Connection
  -- what the last row did
  pub effect : RowEffect
  -- the rises of REQ and ACK in the present phase
  pub handshakes : Handshakes

-- this view is that of these rows
pub record IsBusViewOf (rows : List Row) (v : BusViewValue) : Type 0 where
  pub lines_are : IsViewOf rows v.lines
  pub arbitration_is : v.arbitration ≡ arbitration rows
  pub call_is : v.call ≡ call rows
  pub connection_is : v.connection ≡ connection rows
  pub effect_is : v.effect ≡ effect rows
  pub handshakes_are : v.handshakes ≡ handshakes rows
