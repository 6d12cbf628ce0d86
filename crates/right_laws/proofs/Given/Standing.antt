-- The pointers of the data that a process has carried stand in its bytes, or at their end, after any rows (6.6.5,
-- 6.6.10, 6.6.13, 6.6.19).
use Rattle.right_laws.proofs
use proofs.Names.{◌%◌, length, ℕ, zero, suc, ◌≡◌, ◌+◌, ◌≤◌, arith, length-append, Bool, true, false, ◌∙◌, List, [], ◌∷◌}
use proofs.Names.{◌++◌, Some, refl, ap, nat_tests, nat_lt, slice_set, if◌then◌else◌, ProcId, LineSet, is_command}
use proofs.Names.{is_data, Row, PARITY_ERROR, INITIATOR_DETECTED_ERROR, MsgIn, ScenarioValue, RowReading, row_reading}
use proofs.Names.{Area, CarriedBytes, area_with, bytes_with, carried_of, carried_after_message, with_restored_pointers}
use proofs.Names.{carried_after_byte, carried_after_fault, is_status_phase, nothing_carried, RunState, run_state}
use proofs.Names.{run_state_after, IsKept, no_link, row_carried, by_bool, AllStandIn}
use Rattle.right_laws.specs.Standing.{StandsIn}

-- ---- of an area

abbrev IsOwn : CarriedBytes → Type 0
IsOwn c = StandsIn c.moved

nothing_own : (id : ProcId) → IsOwn (nothing_carried id)
nothing_own id = record { active_in = omega arith; saved_in = omega arith }

set_long : (bytes : List ℕ) (at byte : ℕ) → length (slice_set bytes at byte) ≡ length bytes
set_long [] at byte = refl
set_long (x ∷ xs) zero byte = refl
set_long (x ∷ xs) (suc at) byte = ap (λ (m : ℕ). suc m) (set_long xs at byte)

area_own : (a : Area) (byte : ℕ) → StandsIn a → StandsIn (area_with a byte)
area_own a byte h = by_bool (nat_lt a.active (length a.bytes))
    (λ e. let long : length (bytes_with a.bytes a.active byte) ≡ length a.bytes =
    ap (λ (q : Bool). length (if q then slice_set a.bytes a.active byte else a.bytes ++ byte ∷ [])) e
    ∙ set_long a.bytes a.active byte in let w = inside (length (bytes_with a.bytes a.active byte)) e long in record {
      active_in = w.0;
      saved_in = w.1;
    }) (λ e. let long : length (bytes_with a.bytes a.active byte) ≡ length a.bytes + 1 =
    ap (λ (q : Bool). length (if q then slice_set a.bytes a.active byte else a.bytes ++ byte ∷ [])) e ∙ more in
    let w = beyond (length (bytes_with a.bytes a.active byte)) long in record { active_in = w.0; saved_in = w.1 })
  where
    more : length (a.bytes ++ byte ∷ []) ≡ length a.bytes + 1
    more = length-append a.bytes (byte ∷ [])

    inside : (long : ℕ) → nat_lt a.active (length a.bytes) ≡ true → long ≡ length a.bytes
        → (a.active + 1 ≤ long) × (a.saved ≤ long)
    inside long e same =
        let w = h.saved_in in
        let lt : a.active + 1 ≤ length a.bytes = grind (arith, nat_tests) in
        (omega (arith, lt, same), omega (arith, w, same))

    beyond : (long : ℕ) → long ≡ length a.bytes + 1 → (a.active + 1 ≤ long) × (a.saved ≤ long)
    beyond long same = let w = h.saved_in in let v = h.active_in in (omega (arith, v, same), omega (arith, w, same))

restored_own : (c : CarriedBytes) → IsOwn c → IsOwn (with_restored_pointers c)
restored_own c h = record { active_in = h.saved_in; saved_in = h.saved_in }

message_own : (c : CarriedBytes) (m : MsgIn) → IsOwn c → IsOwn (carried_after_message c m)
message_own c MsgIn.SavePointer h = record { active_in = h.active_in; saved_in = h.active_in }
message_own c MsgIn.RestorePointers h = record { active_in = h.saved_in; saved_in = h.saved_in }
message_own c _ h = h

fault_own : (c : CarriedBytes) (b : LineSet) → IsOwn c → IsOwn (carried_after_fault c b)
fault_own c b h = go (is_command b) (is_data b)
  where
    go : (q r : Bool) → IsOwn (if q then record c { struck = true; failure = Some PARITY_ERROR }
        else if r then record c { failure = Some (if b.io then INITIATOR_DETECTED_ERROR else PARITY_ERROR) } else c)
    go true r = record { active_in = h.active_in; saved_in = h.saved_in }
    go false true = record { active_in = h.active_in; saved_in = h.saved_in }
    go false false = h

byte_own : (c : CarriedBytes) (b : LineSet) (byte : ℕ) → IsOwn c → IsOwn (carried_after_byte c b byte)
byte_own c b byte h = go (is_command b) (is_data b) (is_status_phase b)
  where
    go : (q r t : Bool) → IsOwn (if q then record c { command = area_with c.command byte; block = c.block ++ byte ∷ [] }
        else if r then record c { moved = area_with c.moved byte }
        else if t then record c { status = area_with c.status byte } else c)
    go true r t = record { active_in = h.active_in; saved_in = h.saved_in }
    go false true t = area_own c.moved byte h
    go false false true = record { active_in = h.active_in; saved_in = h.saved_in }
    go false false false = h

-- ---- a row

own_kept : IsKept IsOwn
own_kept =
    record { restored = restored_own; told = message_own; faulted = fault_own; refused = λ c h. h; shown = λ c h. h }

stand_on : (s : ScenarioValue) (k : RunState) (row : Row) → AllStandIn k → AllStandIn (run_state_after s k row)
stand_on s k row h =
    let d : RowReading = row_reading k.story.bus_state row in
    let on = row_carried IsOwn own_kept s k row (λ l id el ei crosses own. byte_own (carried_of k.story.carried id)
    d.change.before (d.change.after.data_bits % 256) own) (record { each = h.each; undone = h.undone }) in
    record { each = on.each; undone = on.undone }

pub all_stand : (s : ScenarioValue) (rows : List Row) → AllStandIn (run_state s rows)
all_stand s [] = record { each = λ id. nothing_own id; undone = no_link IsOwn }
all_stand s (row ∷ rows) = stand_on s (run_state s rows) row (all_stand s rows)
