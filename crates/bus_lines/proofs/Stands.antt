-- A view of the bus goes on by one row.
use Rattle.std.proofs.Common.{◌≡◌, ◌∙◌, Bool, true, false, List, [], ◌∷◌, Option, Some, None, refl, sym, ap, subst}
use Rattle.std.specs.Prelude.{is_some, if◌then◌else◌}
use Rattle.bus_trace.specs.LineSet.{LineSet}
use Rattle.bus_trace.specs.View.{View}
use Rattle.bus_trace.specs.Trace.{IsViewOf, bus, drives, driven_after}
use Rattle.bus_trace.specs.declared.Row.{Row}
use Rattle.bus_trace.specs.declared.changes.Change.{Change}
use Rattle.bus_trace.specs.declared.arbitration.Arbitration.{Arbitration}
use Rattle.bus_trace.specs.declared.selection.Call.{Call}
use Rattle.bus_trace.specs.declared.connection.Connection.{Connection}
use Rattle.bus_lines.specs.declared.effect.RowEffect.{RowEffect}
use Rattle.bus_trace.specs.Changes.{change_of}
use Rattle.bus_trace.specs.Terms.{is_fault, free_since, arbitration_after, call, call_after, connection_after}
use Rattle.bus_trace.specs.Terms.{connection, receiver_of}
use Rattle.bus_lines.specs.Effect.{effect, effect_of, IsOneConnection}
use Rattle.bus_lines.specs.Handshakes.{Handshakes, handshakes}
use Rattle.bus_lines.specs.BusView.{BusViewValue, IsBusViewOf}

-- What a row changes.
pub changes : (rows : List Row) (row : Row) (before after own next : LineSet) → before ≡ bus rows
    → after ≡ bus (row ∷ rows) → own ≡ drives rows row.dev → next ≡ driven_after row.kind own
    → record { before = before; after = after; own = own; next = next } ≡ change_of rows row
changes rows row before after own next eb ea eo en = λ i.
    record { before = eb i; after = ea i; own = eo i; next = (en ∙ ap (λ (x : LineSet). driven_after row.kind x) eo) i }

-- The connection that stands after a row.
pub stands : (rows : List Row) (row : Row) (v : BusViewValue) (c : Change) (n : Option Connection) → IsBusViewOf rows v
    → c ≡ change_of rows row → n ≡ connection_after v.connection v.call c row → n ≡ connection (row ∷ rows)
stands rows row v c n h ec en = en ∙ (λ i. connection_after (h.connection_is i) (h.call_is i) (ec i) row)

-- ---- the connections that an effect tells

-- A row leaves a connection as it is, or ends it.
stays : (m : Connection) (call : Option Call) (c : Change) (row : Row) (n : Option Connection)
    → n ≡ connection_after (Some m) call c row → IsOneConnection (Some m) (Some m) n
stays m call c row None e = tt
stays m call c row (Some n) e = go c.after.bsy e
  where
    go : (on : Bool) → Some n ≡ (if on then Some m else None) → (m ≡ m) × (m ≡ n)
    go true q = (refl, cc)
    go false q = absurd cc

stays_twice : (k : Option Connection) (call : Option Call) (c : Change) (row : Row)
    (later : Option Call) (d : Change) (next : Row) (m n : Option Connection)
    → m ≡ connection_after k call c row → n ≡ connection_after m later d next → IsOneConnection k m n
stays_twice None call c row later d next m n em en = tt
stays_twice (Some k) call c row later d next None n em en = tt
stays_twice (Some k) call c row later d next (Some m) None em en = tt
stays_twice (Some k) call c row later d next (Some m) (Some n) em en =
    ((stays k call c row (Some m) em).1, (stays m later d next (Some n) en).1)

-- The last of them is the one that stands.
last_connection : (rows : List Row) → (effect rows).after ≡ connection rows
last_connection [] = refl
last_connection (row ∷ rows) = refl

pub told_connection : (rows : List Row) (v : BusViewValue) → IsBusViewOf rows v → v.effect.after ≡ v.connection
told_connection rows v h = (λ i. (h.effect_is i).after) ∙ last_connection rows ∙ (λ i. sym h.connection_is i)

same_connection : (rows : List Row) (row : Row)
    → IsOneConnection (effect rows).before (effect rows).after (connection (row ∷ rows))
same_connection [] row = tt
same_connection (last ∷ rows) row = stays_twice (connection rows) (call rows) (change_of rows last) last
    (call (last ∷ rows)) (change_of (last ∷ rows) row) row (connection (last ∷ rows))
    (connection (row ∷ last ∷ rows)) refl refl

pub one_connection : (rows : List Row) (row : Row) (v : BusViewValue) (c : Change) (n : Option Connection)
    → IsBusViewOf rows v → c ≡ change_of rows row → n ≡ connection_after v.connection v.call c row
    → IsOneConnection v.effect.before v.effect.after n
one_connection rows row v c n h ec en =
    let e = stands rows row v c n h ec en in
    subst (λ (x : Option Connection). IsOneConnection v.effect.before v.effect.after x) (sym e)
    (subst (λ (x : RowEffect). IsOneConnection x.before x.after (connection (row ∷ rows))) (sym h.effect_is)
    (same_connection rows row))

-- Of one connection only the rest is to be told.
pub told_already : (k m n : Option Connection) (c : Change) (row : Row)
    → is_some k ≡ true → is_some m ≡ true → is_some n ≡ true → IsOneConnection k m n
    → record { change = c; before = k; after = m; receiver = receiver_of k c; fault = is_fault row.kind }
    ≡ effect_of m n c row
told_already None m n c row ek em en h = absurd cc
told_already (Some k) None n c row ek em en h = absurd cc
told_already (Some k) (Some m) None c row ek em en h = absurd cc
told_already (Some k) (Some m) (Some n) c row ek em en h = λ i. record {
  change = c;
  before = Some (h.0 i);
  after = Some (h.1 i);
  receiver = receiver_of (Some (h.0 i)) c;
  fault = is_fault row.kind;
}

-- ---- all of it

pub goes_on : (rows : List Row) (row : Row) (v : BusViewValue) (lines : View) (c : Change) (a : Option Arbitration)
    (k : Option Call) (n : Option Connection) (e : RowEffect) (s : Handshakes) → IsBusViewOf rows v
    → IsViewOf (row ∷ rows) lines → c ≡ change_of rows row → a ≡ arbitration_after v.arbitration (free_since rows) c row
    → k ≡ call_after v.call c row → n ≡ connection_after v.connection v.call c row
    → e ≡ effect_of v.effect.after n c row → s ≡ handshakes (row ∷ rows) → IsBusViewOf (row ∷ rows)
    (record { lines = lines; arbitration = a; call = k; connection = n; effect = e; handshakes = s })
goes_on rows row v lines c a k n e s h l ec ea ek en ee es = record {
  lines_are = l;
  arbitration_is = ea ∙ (λ i. arbitration_after (h.arbitration_is i) (free_since rows) (ec i) row);
  call_is = ek ∙ (λ i. call_after (h.call_is i) (ec i) row);
  connection_is = stands rows row v c n h ec en;
  effect_is = ee
      ∙ (λ i. effect_of ((told_connection rows v h ∙ h.connection_is) i) (stands rows row v c n h ec en i) (ec i) row);
  handshakes_are = es;
}
