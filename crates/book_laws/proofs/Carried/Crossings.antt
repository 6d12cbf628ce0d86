-- What is carried, and what the rows make of it: each step keeps that they are the process' own bytes.
use Rattle.book_laws.proofs
use proofs.Names.{ℕ, ◌≡◌, ◌<◌, Bool, true, false, List, [], ◌∷◌, ◌++◌, ◌∙◌, length, Some, refl, sym, ap, subst, arith}
use proofs.Names.{slice_index_or, if◌then◌else◌, ProcId, LineSet, is_command, is_data, PARITY_ERROR}
use proofs.Names.{INITIATOR_DETECTED_ERROR, MsgIn, ScenarioValue, Process, process_of, Area, CarriedBytes, area_with}
use proofs.Names.{nothing_carried, with_restored_pointers, carried_after_message, carried_after_byte}
use proofs.Names.{carried_after_fault, is_status_phase, marked_refused, marked_shown, is_writing, IsFilled, IsOwn}
use proofs.Carried.Areas.{puts, takes_on}

-- ---- the steps

pub restored_own : (s : ScenarioValue) (c : CarriedBytes) → IsOwn s c → IsOwn s (with_restored_pointers c)
restored_own s c h p e =
    let o = h p e in
    let z = o.command.saved_is in
    record {
      command = record {
        rest = p.cdb;
        block_is = refl;
        active_is = o.command.saved_is;
        saved_is = o.command.saved_is;
        filled = record {
          rest = o.command.filled.rest;
          bytes_are = o.command.filled.bytes_are;
          active_in = o.command.filled.saved_in;
          saved_in = o.command.filled.saved_in;
        };
      };
      sent = λ w.
          let m = o.sent w in
          record { rest = m.rest; bytes_are = m.bytes_are; active_in = m.saved_in; saved_in = m.saved_in };
      status = o.status;
    }

-- Flags do not matter.
pub record SameBytes (a b : CarriedBytes) : Type 0 where
  pub id : a.id ≡ b.id
  pub command : a.command ≡ b.command
  pub moved : a.moved ≡ b.moved
  pub status : a.status ≡ b.status
  pub block : a.block ≡ b.block

pub own_as : (s : ScenarioValue) (a b : CarriedBytes) → SameBytes a b → IsOwn s b → IsOwn s a
own_as s a b q h p e =
    let o = h p (ap (process_of s) (sym q.id) ∙ e) in
    record {
      command = record {
        rest = o.command.rest;
        block_is = ap (λ (x : List ℕ). x ++ o.command.rest) q.block ∙ o.command.block_is;
        active_is =
            ap (λ (x : Area). x.active) q.command ∙ o.command.active_is ∙ ap (λ (x : List ℕ). length x) (sym q.block);
        saved_is = ap (λ (x : Area). x.saved) q.command ∙ o.command.saved_is;
        filled = subst (λ (x : Area). IsFilled x p.cdb) (sym q.command) o.command.filled;
      };
      sent = λ w. subst (λ (x : Area). IsFilled x p.sent) (sym q.moved) (o.sent w);
      status = ap (λ (x : Area). x.saved) q.status ∙ o.status;
    }

pub refused_own : (s : ScenarioValue) (c : CarriedBytes) → IsOwn s c → IsOwn s (marked_refused c)
refused_own s c h =
    own_as s (marked_refused c) c (record { id = refl; command = refl; moved = refl; status = refl; block = refl }) h

pub shown_own : (s : ScenarioValue) (c : CarriedBytes) → IsOwn s c → IsOwn s (marked_shown c)
shown_own s c h =
    own_as s (marked_shown c) c (record { id = refl; command = refl; moved = refl; status = refl; block = refl }) h

pub fault_own : (s : ScenarioValue) (c : CarriedBytes) (b : LineSet) → IsOwn s c → IsOwn s (carried_after_fault c b)
fault_own s c b h = own_as s (carried_after_fault c b) c (go (is_command b) (is_data b)) h
  where
    go : (q r : Bool) → SameBytes (if q then record c { struck = true; failure = Some PARITY_ERROR }
        else if r then record c { failure = Some (if b.io then INITIATOR_DETECTED_ERROR else PARITY_ERROR) } else c) c
    go true r = record { id = refl; command = refl; moved = refl; status = refl; block = refl }
    go false true = record { id = refl; command = refl; moved = refl; status = refl; block = refl }
    go false false = record { id = refl; command = refl; moved = refl; status = refl; block = refl }

saved_own : (s : ScenarioValue) (c : CarriedBytes) → IsOwn s c
    → IsOwn s (record c { moved = record c.moved { saved = c.moved.active } })
saved_own s c h p e =
    let o = h p e in
    record {
      command = record {
        rest = o.command.rest;
        block_is = o.command.block_is;
        active_is = o.command.active_is;
        saved_is = o.command.saved_is;
        filled = o.command.filled;
      };
      sent = λ w.
          let m = o.sent w in
          record { rest = m.rest; bytes_are = m.bytes_are; active_in = m.active_in; saved_in = m.active_in };
      status = o.status;
    }

pub message_own : (s : ScenarioValue) (c : CarriedBytes) (m : MsgIn) → IsOwn s c → IsOwn s (carried_after_message c m)
message_own s c MsgIn.SavePointer h = saved_own s c h
message_own s c MsgIn.RestorePointers h = own_as s (carried_after_message c MsgIn.RestorePointers)
    (with_restored_pointers c) (record { id = refl; command = refl; moved = refl; status = refl; block = refl })
    (restored_own s c h)
message_own s c _ h = h

-- ---- a byte

-- It is that at the pointer.
pub record IsNext (c : CarriedBytes) (t : Process) (b : LineSet) (byte : ℕ) : Type 0 where
  pub command : is_command b ≡ true
      → (byte ≡ slice_index_or t.cdb c.command.active 0) × (c.command.active < length t.cdb)
  pub moved : is_data b ≡ true → is_writing t ≡ true
      → (byte ≡ slice_index_or t.sent c.moved.active 0) × (c.moved.active < length t.sent)

pub byte_own : (s : ScenarioValue) (c : CarriedBytes) (b : LineSet) (byte : ℕ)
    → ((y : Process) → process_of s c.id ≡ Some y → IsNext c y b byte) → IsOwn s c
    → IsOwn s (carried_after_byte c b byte)
byte_own s c b byte next h = go (is_command b) (is_data b) (is_status_phase b) refl refl
  where
    go : (q r t : Bool) → is_command b ≡ q → is_data b ≡ r
        → IsOwn s (if q then record c { command = area_with c.command byte; block = c.block ++ byte ∷ [] }
        else if r then record c { moved = area_with c.moved byte }
        else if t then record c { status = area_with c.status byte } else c)
    go true r t eq er y e =
        let o = h y e in
        let x = (next y e).command eq in
        let act = o.command.active_is in
        let lt = x.1 in
        record { command = takes_on c y.cdb byte o.command x.0 (omega arith); sent = o.sent; status = o.status }
    go false true t eq er y e =
        let o = h y e in
        record {
          command = record {
            rest = o.command.rest;
            block_is = o.command.block_is;
            active_is = o.command.active_is;
            saved_is = o.command.saved_is;
            filled = o.command.filled;
          };
          sent = λ w. let x = (next y e).moved er w in puts c.moved y.sent byte (o.sent w) x.0 x.1;
          status = o.status;
        }
    go false false true eq er y e =
        let o = h y e in
        record {
          command = record {
            rest = o.command.rest;
            block_is = o.command.block_is;
            active_is = o.command.active_is;
            saved_is = o.command.saved_is;
            filled = o.command.filled;
          };
          sent = o.sent;
          status = o.status;
        }
    go false false false eq er y e = h y e

-- ---- before any row

pub nothing_own : (s : ScenarioValue) (id : ProcId) → IsOwn s (nothing_carried id)
nothing_own s id p e = record {
  command = record {
    rest = p.cdb;
    block_is = refl;
    active_is = refl;
    saved_is = refl;
    filled = record { rest = p.cdb; bytes_are = refl; active_in = omega arith; saved_in = omega arith };
  };
  sent = λ w. record { rest = p.sent; bytes_are = refl; active_in = omega arith; saved_in = omega arith };
  status = refl;
}
