-- The measure falls with each row that turns from MESSAGE IN or STATUS to MESSAGE OUT, as ATN is true.
use Rattle.measure_laws.proofs
use proofs.Names.{suc, ◌≡◌, ◌≤◌, ◌∙◌, Bool, true, false, ◌&&◌, List, ◌∷◌, Some, sym, ap, refl, not, LineSet}
use proofs.Names.{changes_phase, is_data, is_message_out, Row, Change, Connection, ScenarioValue, phase_of, run_state}
use proofs.{Names.{leaving, is_in_data, measure}, Turns.{Falls.{TurnRow, turn_falls}, Out.{attended_pays}}}

pub no_data : (l : LineSet) → is_message_out l ≡ true → is_data l ≡ false
no_data l e = go l.msg l.cd l.io e
  where
    go : (m d i : Bool) → (m && d && not i) ≡ true → (not m && not d) ≡ false
    go true d i z = refl
    go false d i z = absurd cc

-- To which phase it goes.
pub turns_to : (s : ScenarioValue) (p : List Row) (row : Row) (n : Connection) (c : Change) → TurnRow s p row n c
    → (run_state s p).exchange.begun ≡ true → (leaving s (run_state s p) n.target).to ≡ Some (phase_of c.after)
turns_to s p row n c h begun =
    let b = h.was.stood.plain.begun in
    h.lines.whereto (ap changes_phase h.lines_are ∙ h.turned) (sym b ∙ begun)
    ∙ ap (λ (x : Change). Some (phase_of x.after)) h.lines_are

pub out_turn_falls : (s : ScenarioValue) (p : List Row) (row : Row) (n : Connection) (c : Change) → TurnRow s p row n c
    → (run_state s p).exchange.begun ≡ true → is_message_out c.after ≡ true → is_in_data (run_state s p) ≡ false
    → suc (measure s (row ∷ p)) ≤ measure s p
out_turn_falls s p row n c h begun out from = turn_falls s p row n c h from (no_data c.after out)
    (attended_pays s p row n c h.goes.row_is h.goes.phase h.turned begun out (turns_to s p row n c h begun))
