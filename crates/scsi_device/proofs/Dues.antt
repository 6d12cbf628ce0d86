-- What is due of a device in a connection of others, and which fault strikes its sample.
use Rattle.std.proofs.Common.{ℕ, ◌≡◌, ◌==◌, Bool, true, false, List, [], ◌∷◌, refl, sym, Option, Some, None}
use Rattle.std.specs.Prelude.{if◌then◌else◌}
use Rattle.bus_trace.specs.declared.changes.Change.{Change}
use Rattle.bus_trace.specs.declared.connection.Connection.{Connection}
use Rattle.bus_trace.specs.Changes.{rises}
use Rattle.scenario.specs.declared.value.FaultDef.{FaultDef}
use Rattle.scenario.specs.Value.{ScenarioValue}
use Rattle.reaction_model.specs.declared.due.Myself.{Myself}
use Rattle.reaction_model.specs.Ends as hand
use Rattle.due_model.specs.Connected.{is_receiver, initiator_end_due, target_end_due, connected_due}
use Rattle.due_model.specs.RunState.{RunState}
use Rattle.due_model.specs.Sights.{flip_of}
use Rattle.scsi_device.specs.Told.{first_fault, flip_by}
use Rattle.due_model.specs.bus_rules.specs.Order.{is_of_device}

pub flips_are : (faults : List FaultDef) (f : Option FaultDef) (time : ℕ) → f ≡ first_fault faults
    → flip_of faults time ≡ flip_by f time
flips_are [] f time e = λ j. flip_by (sym e j) time
flips_are (g ∷ faults) f time e = λ j. flip_by (sym e j) time

no_receiver : (n : Connection) (c : Change) (dev : ℕ) → (n.initiator == dev) ≡ false → (n.target == dev) ≡ false
    → is_receiver n (Some c) dev ≡ false
no_receiver n c dev x y = go c.before.io (rises c.before.req c.after.req) (rises c.before.ack c.after.ack)
  where
    go : (io req ack : Bool) → is_of_device
        (if io then (if req then Some n.initiator else None) else (if ack then Some n.target else None)) dev ≡ false
    go true true ack = x
    go true false ack = refl
    go false req true = y
    go false req false = refl

other_receiver : (n : Connection) (c : Option Change) (dev : ℕ) → (n.initiator == dev) ≡ false
    → (n.target == dev) ≡ false → is_receiver n c dev ≡ false
other_receiver n None dev x y = refl
other_receiver n (Some c) dev x y = no_receiver n c dev x y

pub others_are : (s : ScenarioValue) (k : RunState) (me : Myself) (n : Connection) → (n.initiator == me.dev) ≡ false
    → (n.target == me.dev) ≡ false → connected_due s k me n ≡ None
others_are s k me n x y =
    λ j. hand.sample_due (other_receiver n k.story.bus_state.crossed me.dev x y j) k.last (flip_of k.faults k.last)
    (if x j then initiator_end_due s k me else if y j then target_end_due s k me else None)
