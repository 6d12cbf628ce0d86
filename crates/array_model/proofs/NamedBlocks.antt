-- The blocks that a process names: those of its command, or at a serial unit, which is a tape, none.
use Rattle.std.proofs.Common.{ℕ, ◌≡◌, ◌⊎◌, inl, inr, Bool, true, false, ◌∙◌, Option, Some, None, refl, subst}
use Rattle.std.specs.Prelude.{if◌then◌else◌}
use Rattle.cdb_codec.specs.Cdb.{command_of}
use Rattle.scenario.specs.Lookups.{is_tape}
use Rattle.scenario.specs.Value.{ScenarioValue}
use Rattle.scenario.specs.declared.value.CmdDef.{CmdDef}
use Rattle.array_model.specs.Order.{range_in, range_named}
use Rattle.array_model.specs.Processes.{Process, command_at, command_process, process_by, process_if, process_of}
use Rattle.array_model.specs.Processes.{sense_process}

pub at_disk : (p : Process) → p.serial ≡ false → range_named p ≡ range_in (command_of p.cdb)
at_disk p e = λ i. if e i then None else range_in (command_of p.cdb)

pub named_either : (p : Process) → (range_named p ≡ None) ⊎ (range_named p ≡ range_in (command_of p.cdb))
named_either p = go p.serial
  where
    go : (x : Bool) → (let o : Option (ℕ × ℕ) = if x then None else range_in (command_of p.cdb) in o ≡ None)
        ⊎ (let o : Option (ℕ × ℕ) = if x then None else range_in (command_of p.cdb) in o ≡ range_in (command_of p.cdb))
    go true = inl refl
    go false = inr refl

pub none_named : (p : Process) → range_in (command_of p.cdb) ≡ None → range_named p ≡ None
none_named p e = elim (named_either p) [ inl z ↦ z | inr z ↦ z ∙ e ]

-- It is serial exactly where its unit is a tape.
pub serial_is : (s : ScenarioValue) (p : Process) → process_of s p.id ≡ Some p
    → p.serial ≡ is_tape s p.target p.unit
serial_is s p h = go (command_at s.commands p.id.command) h
  where
    by : (x : Bool) (c : CmdDef) → (let q : Process = if x then sense_process s p.id c else command_process s p.id c in
        q.serial ≡ is_tape s q.target q.unit)
    by true c = refl
    by false c = refl

    go : (o : Option CmdDef) → process_if s p.id o ≡ Some p → p.serial ≡ is_tape s p.target p.unit
    go None k = cc
    go (Some c) k = let same : process_by s p.id c ≡ p = cc in
        subst (λ (q : Process). q.serial ≡ is_tape s q.target q.unit) same (by p.id.sense c)
