-- What MESSAGE PARITY ERROR brings back are the bytes that the process has, after any rows of a prompt trace (6.6.13).
use Rattle.right_laws.proofs
use proofs.Names.{◌≡◌, Bool, true, false, ◌∙◌, List, [], ◌∷◌, Some, refl, sym, ap, if◌then◌else◌, is_some, wrong}
use proofs.Names.{ProcId, LineSet, is_command, is_data, receiver_in, Row, Change, Connection, PARITY_ERROR}
use proofs.Names.{INITIATOR_DETECTED_ERROR, MsgIn, ScenarioValue, Obeys, RowReading, row_reading, CarriedBytes}
use proofs.Names.{carried_after_message, carried_after_fault, IsPrompt, RunState, carried_here, run_state}
use proofs.Names.{run_state_after, reading_is, IsRowIn, Stood, NextStood, undo_start, undo_asks, undo_next, SameIn}
use proofs.{Names.{IsKeptInside, load, UndoesLoads, UndoLoadFacts}, Ran.Lasting.{IsLasting, row_lasts}}

-- ---- the bytes after a row

pub lasting_load : IsLasting load
lasting_load = record { restored = λ c. refl; told = told; faulted = faulted; refused = λ c. refl; shown = λ c. refl }
  where
    told : (c : CarriedBytes) (m : MsgIn) → load (carried_after_message c m) ≡ load c
    told c MsgIn.SavePointer = refl
    told c _ = refl

    faulted : (c : CarriedBytes) (b : LineSet) → load (carried_after_fault c b) ≡ load c
    faulted c b = go (is_command b) (is_data b)
      where
        go : (q r : Bool) → load (if q then record c { struck = true; failure = Some PARITY_ERROR }
            else if r then record c { failure = Some (if b.io then INITIATOR_DETECTED_ERROR else PARITY_ERROR) } else c)
            ≡ load c
        go true r = refl
        go false true = refl
        go false false = refl

-- Where no byte of COMMAND, data or STATUS crosses.
pub loads_stay : (s : ScenarioValue) (k : RunState) (row : Row) → ((row_reading k.story.bus_state row).crosses ≡ true
    → (row_reading k.story.bus_state row).change.before.msg ≡ true)
    → UndoesLoads k row → SameIn load k (run_state_after s k row)
loads_stay s k row silent undoes id =
    row_lasts load lasting_load s k row id
    (λ l e item crosses msg. wrong (sym (silent crosses) ∙ msg))
    (λ l m u e out parity undo same. undoes l m u e out parity undo ∙ ap (λ (x : ProcId). load (carried_here k x)) same)

pub loads_stay_in : (s : ScenarioValue) (k : RunState) (row : Row) (n : Connection) (c : Change) (now : Bool)
    → IsRowIn k row n c → is_some (receiver_in n c) ≡ now → (now ≡ true → c.before.msg ≡ true) → UndoesLoads k row
    → SameIn load k (run_state_after s k row)
loads_stay_in s k row n c now r en silent undoes =
    let is = reading_is k row n c now r en in
    loads_stay s k row (λ e. ap (λ (d : RowReading). d.change.before.msg) is
    ∙ silent (ap (λ (d : RowReading). d.crosses) (sym is) ∙ e)) undoes

kept_loads : IsKeptInside load
kept_loads = record {
  stays = λ s k row n c now l r en link undoes quiet silent. loads_stay_in s k row n c now r en silent undoes;
}

-- ---- what would be brought back

pub load_start : (s : ScenarioValue) → UndoLoadFacts s []
load_start s = undo_start load s

pub load_asks : (s : ScenarioValue) (p : List Row) (row : Row) → Stood s p → NextStood s p row → UndoLoadFacts s p
    → UndoesLoads (run_state s p) row
load_asks s p row was next h = undo_asks load s p row was next h

pub load_next : (s : ScenarioValue) (p : List Row) (row : Row) → Obeys s → IsPrompt s (row ∷ p) → Stood s p
    → NextStood s p row → UndoLoadFacts s p → UndoLoadFacts s (row ∷ p)
load_next s p row o prompt was next h = undo_next load kept_loads s p row o prompt was next h
