-- What leaves the units of an array as they are.
use Rattle.array_model.specs.Steps.{is_reset_pending, unit_reset_attentions, reset_attention, cleared_attention}
use Rattle.array_model.specs.Steps.{cleared_attentions, reset_attentions}
use Rattle.std.proofs.Common.{[], Bool, ◌≡◌, List, true, ◌∷◌, false, refl, ℕ, ◌∙◌}
use Rattle.array_model.specs.Units.{Nexus, UnitState, senses_without, Array, sense_of_nexus, nexus_of}
use Rattle.array_model.specs.Execution.{commands_cleared}
use Rattle.std.specs.Prelude.{◌==◌, if◌then◌else◌}
use Rattle.array_model.specs.Processes.{Process}
use Rattle.scenario.specs.declared.value.HostDef.{HostDef}

pub either_units : (x : Bool) (a b : Array) (units : List UnitState) → a.units ≡ units → b.units ≡ units
    → (if x then a else b).units ≡ units
either_units true a b units h k = h
either_units false a b units h k = k

pub cleared_attention_units : (a : Array) (nexus : Nexus) → (cleared_attention a nexus).units ≡ a.units
cleared_attention_units a nexus =
    either_units (is_reset_pending (sense_of_nexus a.attentions nexus)) a
    (record a { attentions = (nexus, commands_cleared) ∷ senses_without a.attentions nexus }) a.units refl refl

pub cleared_units : (initiator : ℕ) (lost : List Process) (a : Array)
    → (cleared_attentions initiator lost a).units ≡ a.units
cleared_units initiator [] a = refl
cleared_units initiator (p ∷ lost) a =
    cleared_units initiator lost (if p.initiator == initiator then a else cleared_attention a (nexus_of p))
    ∙ either_units (p.initiator == initiator) a (cleared_attention a (nexus_of p)) a.units refl
    (cleared_attention_units a (nexus_of p))

pub reset_units : (hosts : List HostDef) (target unit : ℕ) (a : Array)
    → (reset_attentions hosts target unit a).units ≡ a.units
reset_units [] target unit a = refl
reset_units (h ∷ hosts) target unit a =
    reset_units hosts target unit (reset_attention a (record { initiator = h.dev; target = target; unit = unit }))

pub unit_reset_units : (hosts : List HostDef) (units : List UnitState) (is_one : UnitState → Bool) (a : Array)
    → (unit_reset_attentions hosts units is_one a).units ≡ a.units
unit_reset_units hosts [] is_one a = refl
unit_reset_units hosts (u ∷ units) is_one a =
    unit_reset_units hosts units is_one (if is_one u then reset_attentions hosts u.target u.unit a else a)
    ∙ either_units (is_one u) (reset_attentions hosts u.target u.unit a) a a.units
    (reset_units hosts u.target u.unit a) refl
