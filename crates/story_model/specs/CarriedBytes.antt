-- What the bytes of a process carried: its command block, its data and its status, by its pointers (6.4, 6.6.19,
-- 6.6.20).
use Rattle.std.specs.Prelude.{ℕ, ◌+◌, Bool, true, false, not, ◌&&◌, ◌==◌, List, [], ◌∷◌, ◌++◌, length, slice_set}
use Rattle.std.specs.Prelude.{Option, Some, None, nat_lt, if◌then◌else◌}
use Rattle.bus_phases.specs.bus_base.specs.declared.ProcId.{ProcId}
use Rattle.bus_phases.specs.bus_trace.specs.LineSet.{LineSet}
use Rattle.bus_phases.specs.msg_grammar.specs.declared.message.MsgIn.{MsgIn}
use Rattle.bus_phases.specs.msg_grammar.specs.declared.message.MsgIn.TheVariants as to_initiator
use Rattle.bus_phases.specs.bus_trace.specs.Phases.{is_data, is_command}
use Rattle.array_model.specs.cdb_codec.specs.declared.sense.TheConstants.{PARITY_ERROR, INITIATOR_DETECTED_ERROR}
use Rattle.array_model.specs.cdb_codec.specs.Cdb.{has_group_len}
use Rattle.array_model.specs.Processes.{same_id}

-- An area: the bytes by position, and the active and the saved pointer.
pub record Area : Type 0 where
  pub bytes : List ℕ
  pub active : ℕ
  pub saved : ℕ

abbrev pub empty_area : Area
empty_area = record { bytes = []; active = 0; saved = 0 }

abbrev pub bytes_with : List ℕ → ℕ → ℕ → List ℕ
bytes_with bytes at byte = if nat_lt at (length bytes) then slice_set bytes at byte else bytes ++ byte ∷ []

abbrev pub area_with : Area → ℕ → Area
area_with a byte = record a { bytes = bytes_with a.bytes a.active byte; active = a.active + 1 }

abbrev pub restored_area : Area → Area
restored_area a = record a { active = a.saved }

-- What a process has carried, and what struck it since the pointers were last restored: the code of its failure.
pub record CarriedBytes : Type 0 where
  pub id : ProcId
  pub command : Area
  pub moved : Area
  pub status : Area
  -- the bytes of COMMAND since the last restore, and whether a fault struck one of them
  pub block : List ℕ
  pub struck : Bool
  -- the code of a fault on COMMAND or DATA that no RESTORE POINTERS followed
  pub failure : Option ℕ
  -- whether it was refused, and whether its first STATUS phase has come
  pub refused : Bool
  pub shown : Bool

abbrev pub nothing_carried : ProcId → CarriedBytes
nothing_carried id = record {
  id = id;
  command = empty_area;
  moved = empty_area;
  status = empty_area;
  block = [];
  struck = false;
  failure = None;
  refused = false;
  shown = false;
}

-- A connection begins, or RESTORE POINTERS comes: the active pointers are set to the saved ones.
abbrev pub with_restored_pointers : CarriedBytes → CarriedBytes
with_restored_pointers k = record k {
  command = restored_area k.command;
  moved = restored_area k.moved;
  status = restored_area k.status;
  block = [];
  struck = false;
}

abbrev pub carried_after_message : CarriedBytes → MsgIn → CarriedBytes
carried_after_message k to_initiator.SavePointer = record k { moved = record k.moved { saved = k.moved.active } }
carried_after_message k to_initiator.RestorePointers = record (with_restored_pointers k) { failure = None }
carried_after_message k _ = k

abbrev pub is_status_phase : LineSet → Bool
is_status_phase s = not s.msg && s.cd && s.io

-- A byte crosses in the phase of these lines.
abbrev pub carried_after_byte : CarriedBytes → LineSet → ℕ → CarriedBytes
carried_after_byte k s byte =
    if is_command s then record k { command = area_with k.command byte; block = k.block ++ byte ∷ [] }
    else if is_data s then record k { moved = area_with k.moved byte }
    else if is_status_phase s then record k { status = area_with k.status byte }
    else k

-- A fault strikes a byte that crossed in the phase of these lines.
abbrev pub carried_after_fault : CarriedBytes → LineSet → CarriedBytes
carried_after_fault k s =
    if is_command s then record k { struck = true; failure = Some PARITY_ERROR }
    else if is_data s then record k { failure = Some (if s.io then INITIATOR_DETECTED_ERROR else PARITY_ERROR) }
    else k

-- Its command block stands whole since the last restore, and no fault struck a byte of it.
abbrev pub is_whole_block : CarriedBytes → Bool
is_whole_block k = not (length k.block == 0) && has_group_len k.block && not k.struck

-- ---- the processes so far

abbrev pub carried_at : List CarriedBytes → ProcId → Option CarriedBytes
carried_at [] id = None
carried_at (k ∷ all) id = if same_id k.id id then Some k else carried_at all id

abbrev pub with_carried : List CarriedBytes → CarriedBytes → List CarriedBytes
with_carried [] k = k ∷ []
with_carried (l ∷ all) k = if same_id l.id k.id then k ∷ all else l ∷ with_carried all k

abbrev pub carried_or_nothing : Option CarriedBytes → ProcId → CarriedBytes
carried_or_nothing None id = nothing_carried id
carried_or_nothing (Some k) id = k

abbrev pub carried_of : List CarriedBytes → ProcId → CarriedBytes
carried_of all id = carried_or_nothing (carried_at all id) id
