-- The measure falls with the row that turns to DATA for a command, where the bytes of the run are not left after it any
-- more.
use Rattle.measure_laws.proofs
use proofs.Names.{inl, ℕ, suc, ◌≡◌, ◌≤◌, ◌∙◌, Bool, true, false, ◌&&◌, List, ◌∷◌, Option, Some, sym, ap, arith, ◌+◌}
use proofs.Names.{◌*◌, drop, if◌then◌else◌, is_some, LineSet, is_data, connection, bus, Row, Change, Connection}
use proofs.Names.{ScenarioValue, Obeys, CmdDef, command_at, Item, command_id, command_item, has_item, run_state_plain}
use proofs.Names.{ProcessProgress, progress_in, IsPrompt, bus_of, run_state, Knows, over_after, bytes_after, is_in_data}
use proofs.{Names.{measure, sense_bytes_left}, Connections.BeginFalls.{calm_resets}, Data.Turns.{EntersData}}
use proofs.{Data.Turns.{command_pays_run, data_turn_falls, run_of}, Turns.Falls.{TurnRow, turn_in, turn_kind}}
use proofs.Turns.Falls.{turn_runs}

no_sense : (moves : Bool) (made : List ProcessProgress) (o : Option Item) (m : ℕ) → o ≡ Some (command_item m)
    → sense_bytes_left moves made o ≡ 0
no_sense moves made o m e = ap (λ (x : Option Item). sense_bytes_left moves made x) e

pub command_turn_falls :
    (s : ScenarioValue) (p : List Row) (row : Row) (n : Connection) (c : Change) (m : ℕ) (d : CmdDef) → Obeys s
    → IsPrompt s (row ∷ p) → TurnRow s p row n c → connection p ≡ Some n → (run_state s p).exchange.begun ≡ true
    → is_data (bus_of (run_state s p)) ≡ false → is_data c.after ≡ true → (run_state s p).served ≡ Some (command_item m)
    → command_at s.commands m ≡ Some d → has_item (run_state s p).story.sent.sent (command_item m) ≡ true
    → has_item (run_state s p).story.sent.over (command_item m) ≡ false → run_of s (run_state s (row ∷ p)) n
    + bytes_after s d ((progress_in (run_state s p).progress (command_id m)).runs + 1)
    ≤ bytes_after s d (progress_in (run_state s p).progress (command_id m)).runs
    → suc (measure s (row ∷ p)) ≤ measure s p
command_turn_falls s p row n c m d o prompt h con begun from to served at sent over fewer =
    let k = run_state s p in
    let j = run_state s (row ∷ p) in
    let dv = h.was.stood.standing.devices in
    let t = turn_in s p row n c h in
    let g = h.goes in
    let w = turn_kind row n c g.row_is.kind h.turned in
    let knows : Knows s k n = h.was.stood.books.knows n g.row_is.connection_is g.calm in
    let off_next : (bus (row ∷ p)).rst ≡ false =
    ap (λ (l : LineSet). l.rst) (sym (run_state_plain s (row ∷ p) (h.below, dv)).bus ∙ t.bus_is) ∙ g.row_is.calm in
    let still_before : is_in_data k ≡ false = λ i. begun i && from i in
    let e : EntersData s j k m = record {
      sent = (over_after s k row n c false knows.link g.row_is
          (ap (λ (x : Option ℕ). is_some x) w.1) knows.link_is).same (inl h.turned);
      served = t.served_is ∙ served;
      before = served;
      still = still_before;
      moves = (λ i. (t.exchange_is i).begun && is_data (t.bus_is i)) ∙ to;
      runs = turn_runs s p row n c h still_before;
      resets = calm_resets s p row dv h.below w.0 h.off off_next;
      faults = ap (λ (b : Bool). if b then drop 1 k.faults else k.faults) w.0;
    } in
    data_turn_falls s p row n c o prompt h con begun from to
    (sum _ _ _ _ _ (no_sense (is_in_data j) j.progress j.served m e.served)
    (command_pays_run s j k m (run_of s j n) d at sent over e fewer))
  where
    sum : (f g x y r : ℕ) → x ≡ 0 → f + 8 * r ≤ g → f + 8 * r + x ≤ g + y
    sum f g x y r e h = omega arith
