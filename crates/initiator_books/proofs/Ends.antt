-- The initiator of a connection is a device: it called, or its ID was on the bus in a reselection.
use Rattle.std.proofs.Common.{ℕ, ◌<◌, Bool, true, false, List, [], ◌∷◌, Option, Some, None, arith}
use Rattle.std.specs.Prelude.{⊤, if◌then◌else◌, not, ◌&&◌, ◌==◌}
use Rattle.bus_trace.specs.LineSet.{LineSet}
use Rattle.bus_trace.specs.declared.Row.{Row}
use Rattle.bus_trace.specs.declared.changes.Change.{Change}
use Rattle.bus_trace.specs.declared.connection.Connection.{Connection}
use Rattle.bus_trace.specs.declared.selection.Call.{Call}
use Rattle.bus_trace.specs.declared.selection.Calling.{Calling}
use Rattle.bus_trace.specs.Changes.{rises, falls, change_of}
use Rattle.bus_trace.specs.Terms.{other_id, is_other_id, drives_two_ids, new_calling, caller_goes_on, called_goes_on}
use Rattle.bus_trace.specs.Terms.{calling_after, call, call_goes_on, connected_by, connected_of, connection_of}
use Rattle.bus_trace.specs.Terms.{connection_after, connection}
use Rattle.due_model.specs.Plain.{AreOfDevices}
use Rattle.initiator_books.proofs.Wishes.{IsCaller, HasInitiator}
use Rattle.initiator_books.proofs.WishRows.{callers_are}

abbrev IsCalling : Option Calling → Type 0
IsCalling None = ⊤
IsCalling (Some k) = k.called < 8

abbrev HasCalled : Option Call → Type 0
HasCalled None = ⊤
HasCalled (Some c) = IsCalling c.calling

other_is : (lines : LineSet) (own : ℕ) → other_id lines own < 8
other_is lines own = go (is_other_id lines own 0) (is_other_id lines own 1) (is_other_id lines own 2)
    (is_other_id lines own 3) (is_other_id lines own 4) (is_other_id lines own 5) (is_other_id lines own 6)
  where
    go : (a b c d e f g : Bool) → (if a then 0 else if b then 1
        else if c then 2 else if d then 3 else if e then 4 else if f then 5 else if g then 6 else 7) < 8
    go true b c d e f g = omega arith
    go false true c d e f g = omega arith
    go false false true d e f g = omega arith
    go false false false true e f g = omega arith
    go false false false false true f g = omega arith
    go false false false false false true g = omega arith
    go false false false false false false true = omega arith
    go false false false false false false false = omega arith

calling_is : (caller : ℕ) (k : Option Calling) (c : Change) (row : Row) → IsCalling k
    → IsCalling (calling_after caller k c row)
calling_is caller None c row x = go (row.dev == caller && drives_two_ids caller c.next)
  where
    go : (p : Bool) → IsCalling (if p then Some (new_calling caller c.next row.time) else None)
    go true = other_is c.next caller
    go false = tt
calling_is caller (Some k) c row x = go (row.dev == caller) (row.dev == k.called)
  where
    go : (p q : Bool) → IsCalling
        (if p then Some (caller_goes_on k c row.time) else if q then Some (called_goes_on k c row) else Some k)
    go true q = x
    go false true = x
    go false false = x

called_are : (rows : List Row) → HasCalled (call rows)
called_are [] = tt
called_are (row ∷ rows) = go (not (change_of rows row).after.sel)
    (rises (change_of rows row).before.sel (change_of rows row).after.sel) (call rows) (called_are rows)
  where
    go : (p q : Bool) (c : Option Call) → HasCalled c
        → HasCalled (if p then None else if q then Some (record { caller = row.dev; at = row.time; calling = None })
        else call_goes_on c (change_of rows row) row)
    go true q c x = tt
    go false true c x = tt
    go false false None x = tt
    go false false (Some c) x = calling_is c.caller c.calling (change_of rows row) row x

begins : (c : Option Call) (time : ℕ) → IsCaller c → HasCalled c → HasInitiator (connection_of c time)
begins None time x y = tt
begins (Some c) time x y = with_calling c.calling y
  where
    answer : (k : Calling) (answered : Option ℕ) → k.called < 8 → HasInitiator (connected_by c.caller k answered time)
    answer k None z = tt
    answer k (Some answered) z = go k.reselects
      where
        go : (p : Bool) → (if p then k.called else c.caller) < 8
        go true = z
        go false = x

    with_calling : (k : Option Calling) → IsCalling k → HasInitiator (connected_of c.caller k time)
    with_calling None z = tt
    with_calling (Some k) z = answer k k.answered z

pub initiators_are : (rows : List Row) → AreOfDevices rows → HasInitiator (connection rows)
initiators_are [] h = tt
initiators_are (row ∷ rows) h = go (connection rows) (initiators_are rows h.1)
  where
    free : (p : Bool) → HasInitiator (if p then connection_of (call rows) row.time else None)
    free true = begins (call rows) row.time (callers_are rows h.1) (called_are rows)
    free false = tt

    kept : (p : Bool) (n : Connection) → n.initiator < 8 → HasInitiator (if p then Some n else None)
    kept true n x = x
    kept false n x = tt

    go : (m : Option Connection) → HasInitiator m
        → HasInitiator (connection_after m (call rows) (change_of rows row) row)
    go None x = free (falls (change_of rows row).before.sel (change_of rows row).after.sel
        && (change_of rows row).after.bsy && not (change_of rows row).after.rst)
    go (Some n) x = kept (change_of rows row).after.bsy n x
