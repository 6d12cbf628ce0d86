-- The bus in arbitration and in a calling, and the callings (6.1.2 to 6.1.4).
use Rattle.std.specs.Prelude.{ℕ, ◌+◌, ◌^◌, Bool, true, false, not, Some, None}
use Rattle.due_model.specs.bus_trace.specs.LineSet.{LineSet, none}
use Rattle.due_model.specs.bus_trace.specs.declared.selection.Call.{Call}
use Rattle.due_model.specs.bus_trace.specs.declared.selection.Calling.{Calling}

-- The bus of an arbitration, and of one that is won.
abbrev pub arbitration_bus : ℕ → LineSet
arbitration_bus x = record none { bsy = true; data_bits = x }

abbrev pub won_bus : ℕ → LineSet
won_bus x = record none { bsy = true; sel = true; data_bits = x }

-- The row that drives both IDs, c of the caller and k of the called device, with their parity: a selection with ATN, a
-- reselection with I/O.
abbrev pub both_ids : Bool → ℕ → ℕ → LineSet
both_ids m c k = record none { data_bits = 2 ^ c + 2 ^ k + 256; bsy = true; sel = true; atn = m; io = not m }

-- The call, from the rise of SEL at t on; with both IDs; and what the caller then drives, BSY true or false.
abbrev pub won_call : ℕ → ℕ → Call
won_call c t = record { caller = c; at = t; calling = None }

abbrev pub new_calling_at : Bool → ℕ → ℕ → Calling
new_calling_at m k t = record {
  called = k;
  reselects = not m;
  at = t;
  released = None;
  withdrawn = None;
  resumed = None;
  answered = None;
  struck = false;
}

abbrev pub begun_call : Bool → ℕ → ℕ → ℕ → ℕ → Call
begun_call m c k t0 t = record { caller = c; at = t0; calling = Some (new_calling_at m k t) }

abbrev pub calling_lines : Bool → Bool → ℕ → LineSet
calling_lines m b x = record none { data_bits = x; bsy = b; sel = true; atn = m; io = not m }

-- Once BSY is released, a fault having struck the called device or not; once the caller has withdrawn the IDs; after
-- the answer; and in a reselection once the target drives BSY again.
abbrev pub awaiting_call : Bool → Bool → ℕ → ℕ → ℕ → ℕ → ℕ → Call
awaiting_call v m c k t0 t1 t2 =
    record { caller = c; at = t0; calling = Some (record (new_calling_at m k t1) { released = Some t2; struck = v }) }

abbrev pub withdrawn_call : Bool → Bool → ℕ → ℕ → ℕ → ℕ → ℕ → ℕ → Call
withdrawn_call v m c k t0 t1 t2 t3 = record {
  caller = c;
  at = t0;
  calling = Some (record (new_calling_at m k t1) { released = Some t2; withdrawn = Some t3; struck = v });
}

abbrev pub answered_calling : Bool → ℕ → ℕ → ℕ → ℕ → Calling
answered_calling m k t1 t2 t3 = record (new_calling_at m k t1) { released = Some t2; answered = Some t3 }

abbrev pub answer_lines : LineSet
answer_lines = record none { bsy = true }

abbrev pub resumed_calling : ℕ → ℕ → ℕ → ℕ → ℕ → Calling
resumed_calling k t1 t2 t3 t4 =
    record (new_calling_at false k t1) { released = Some t2; answered = Some t3; resumed = Some t4 }

abbrev pub call_with : ℕ → ℕ → Calling → Call
call_with c t0 g = record { caller = c; at = t0; calling = Some g }
