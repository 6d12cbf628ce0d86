-- The pointers of a process (6.4): what each event does to them, where they stand in what the process carried, and the
-- areas that they point into.
use Rattle.std.specs.Prelude.{ℕ, ◌+◌, Bool}
use Rattle.bus_trace.specs.LineSet.{LineSet}
use Rattle.bus_trace.specs.Phases.{is_data, is_command}
use Rattle.story_model.specs.CarriedBytes.{CarriedBytes, is_status_phase}
use Rattle.io_pointers.specs.declared.pointers.Area.{Area}
use Rattle.io_pointers.specs.declared.pointers.Area.TheVariants as areas
use Rattle.io_pointers.specs.declared.pointers.Place.{Place}
use Rattle.io_pointers.specs.declared.pointers.Pointers.{Pointers}

-- The pointers of a process that has carried this.
abbrev pub pointers_of : CarriedBytes → Pointers
pointers_of k = record {
  saved = record { command = k.command.saved; payload = k.moved.saved; status = k.status.saved };
  active = record { command = k.command.active; payload = k.moved.active; status = k.status.active };
}

-- The lines are those of the phase in which bytes of this area cross.
abbrev pub is_in : Area → LineSet → Bool
is_in areas.Command s = is_command s
is_in areas.Payload s = is_data s
is_in areas.Status s = is_status_phase s

-- ---- the same without what was carried

abbrev pub at_start : Place
at_start = record { command = 0; payload = 0; status = 0 }

-- The pointer into an area.
abbrev pub place_in : Place → Area → ℕ
place_in p areas.Command = p.command
place_in p areas.Payload = p.payload
place_in p areas.Status = p.status

abbrev pub with_saved_data : Pointers → Pointers
with_saved_data p = record p { saved = record p.saved { payload = p.active.payload } }

abbrev pub with_restored : Pointers → Pointers
with_restored p = record p { active = p.saved }

abbrev pub place_after : Place → Area → Place
place_after p areas.Command = record p { command = p.command + 1 }
place_after p areas.Payload = record p { payload = p.payload + 1 }
place_after p areas.Status = record p { status = p.status + 1 }

abbrev pub advanced : Pointers → Area → Pointers
advanced p area = record p { active = place_after p.active area }
