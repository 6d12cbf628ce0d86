-- What a device knows of its own rows.
use Rattle.std.specs.Prelude.{ℕ, ◌≡◌, List, Option}
use Rattle.bus_trace.specs.declared.Row.{Row}
use Rattle.scenario.specs.declared.value.ResetDef.{ResetDef}
use Rattle.scenario.specs.Value.{ScenarioValue}
use Rattle.due_model.specs.Own.{Own, idle_device, own_of}
use Rattle.due_model.specs.Due.{reset_from}

-- When it made rows, all reset lines of the scenario, and when it drives RST next.
pub record ItselfValue : Type 0 where
  pub dev : ℕ
  pub own : Own
  pub resets : List ResetDef
  pub reset : Option ℕ

pub record IsItselfOf (s : ScenarioValue) (rows : List Row) (v : ItselfValue) : Type 0 where
  pub own_is : v.own ≡ own_of rows v.dev
  pub resets_are : v.resets ≡ s.resets
  pub reset_is : v.reset ≡ reset_from v.dev v.own.released v.resets

-- Before any row.
abbrev pub itself : ℕ → List ResetDef → ItselfValue
itself dev resets =
    record { dev = dev; own = idle_device; resets = resets; reset = reset_from dev idle_device.released resets }

-- With these times of its own rows.
abbrev pub itself_with : ItselfValue → Own → ItselfValue
itself_with v own = record v { own = own; reset = reset_from v.dev own.released v.resets }
