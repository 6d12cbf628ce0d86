-- The stages of a connection (6.1.5 to 6.1.10).
use Rattle.std.specs.Prelude.{ℕ, ◌≡◌, Bool, false, List, ◌∷◌, None}
use Rattle.due_model.specs.bus_trace.specs.declared.Row.{Row}
use Rattle.due_model.specs.bus_trace.specs.declared.connection.Connection.{Connection}
use Rattle.due_model.specs.scenario.specs.Value.{ScenarioValue}
use Rattle.due_model.specs.bus_rules.specs.Rules.{broken_rule}
use Rattle.bus_laws.specs.Ends.{BeginsSelected}
use Rattle.bus_laws.specs.Stages.{BusStage, Standing, is_connected}
use Rattle.link_laws.specs.Phases.{Settling, Turning, Offering, Shaking}
use Rattle.link_laws.specs.Pulses.{Pulsing, EndsAhead}

-- The initiator has selected the target, and no phase has begun; a phase has begun, and REQ has not risen in it; bytes
-- cross one by one, or by pulses.
pub data LinkStage (s : ScenarioValue) (p : List Row) (n : Connection) : Type 0 where
  when_selected : BeginsSelected p n → LinkStage s p n
  when_settling : (bsy atn msg cd io : Bool) (y : ℕ) → Settling p n bsy atn msg cd io y → LinkStage s p n
  when_turning : (atn : Bool) (x : ℕ) (msg cd : Bool) → Turning s p n atn x msg cd → LinkStage s p n
  when_offering : (atn msg cd : Bool) (y : ℕ) → Offering p n atn msg cd y → LinkStage s p n
  when_shaking : (msg cd io req ack atn : Bool) (x y : ℕ) → Shaking p n msg cd io req ack atn x y → LinkStage s p n
  when_pulsing : (io req ack atn : Bool) (x y : ℕ) → Pulsing s p n io req ack atn x y
      → EndsAhead s p n io req ack atn x y → LinkStage s p n

-- What stands after some rows: one of the stages without a connection, or one of a connection.
pub data AnyStage (s : ScenarioValue) (p : List Row) : Type 0 where
  apart : BusStage s p → is_connected p ≡ false → AnyStage s p
  linked : (n : Connection) → LinkStage s p n → AnyStage s p

-- What the next row does: it obeys all rules, and all holds again that held before it.
pub record NextAny (s : ScenarioValue) (p : List Row) (row : Row) : Type 0 where
  pub obeys : broken_rule p row ≡ None
  pub standing : Standing s (row ∷ p)
  pub here : AnyStage s (row ∷ p)
