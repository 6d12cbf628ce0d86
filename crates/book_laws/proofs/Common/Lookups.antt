-- What one process carried_after_byte does not touch another.
use Rattle.book_laws.proofs
use proofs.Names.{◌≡◌, Bool, false, List, ◌∙◌, ap, if◌then◌else◌, ProcId, same_id, carried_with, CarriedBytes}
use proofs.Names.{with_carried, carried_of}
pub use Rattle.due_model.specs.array_model.proofs.SeatLookups.{same_id_is as id_is}
pub use Rattle.due_model.specs.array_model.proofs.SeatReplies.{id_self as self_id}

pub put_own : (all : List CarriedBytes) (c : CarriedBytes) (id : ProcId) → c.id ≡ id
    → carried_of (with_carried all c) id ≡ c
put_own all c id e = carried_with all c id
    ∙ ap (λ (q : Bool). if q then c else carried_of all id) (ap (λ (x : ProcId). same_id x id) e ∙ self_id id)

pub put_other : (all : List CarriedBytes) (c : CarriedBytes) (id other : ProcId) → c.id ≡ id → same_id id other ≡ false
    → carried_of (with_carried all c) other ≡ carried_of all other
put_other all c id other e ne = carried_with all c other
    ∙ ap (λ (q : Bool). if q then c else carried_of all other) (ap (λ (x : ProcId). same_id x other) e ∙ ne)
