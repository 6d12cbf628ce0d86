-- With a row that leaves a phase for another the measure falls, if it falls with those of four kinds: that enter
-- MESSAGE OUT; of the others, that leave data, that enter it, and that do neither.
use Rattle.measure_laws.proofs
use proofs.Names.{ℕ, ◌≡◌, ◌∙◌, Bool, true, false, ◌&&◌, List, [], ◌∷◌, refl, sym, ap, not, changes_phase, is_data}
use proofs.Names.{is_message_out, bus, Row, Change, Connection, handshakes, ScenarioValue, begun, Linked, row_of_lines}
use proofs.Names.{offering_with, ends, stage_of_connection, link_phase, is_pulsed, is_unasked}
use proofs.{Connections.Edges.{FallsLeaving, LinkedRow}, Phases.Falls.{FallsWith}, Turns.Turned.{TurnedRow}}
use proofs.Turns.Turned.{leaves_turns, turned_row}

-- All that is known of such a row.
pub record LeavingRow (s : ScenarioValue) (p : List Row) (row : Row) (n : Connection) : Type 0 where
  pub linked : LinkedRow s p row n
  pub turned : TurnedRow s p row n
  pub turns : changes_phase turned.change ≡ true
  pub known : turned.change.after.msg ≡ true → turned.change.after.cd ≡ true
  pub begun_is : begun p ≡ true
  pub atn : Bool
  pub msg : Bool
  pub cd : Bool
  pub io : Bool
  pub x : ℕ
  pub y : ℕ
  pub was : Linked p n (ends false false atn x msg cd io false y)
  pub known_was : (msg && not cd) ≡ false
  pub asked : is_unasked p ≡ false
  pub rest : (is_pulsed p (ends false false atn x msg cd io false y) ≡ false → x ≡ 0)
      × (is_pulsed p (ends false false atn x msg cd io false y) ≡ true → (handshakes p).waiting ≡ [])
  pub follows : (offering_with s p n true (ends false false atn x msg cd io false y)).follows ≡ false
  pub row_is : row
      ≡ row_of_lines row.time n.target (offering_with s p n true (ends false false atn x msg cd io false y)).to

-- ---- the four kinds

abbrev pub FallsWordsEntered : Type 0
FallsWordsEntered = (s : ScenarioValue) (p : List Row) (row : Row) (n : Connection) → (r : LeavingRow s p row n)
    → is_message_out r.turned.change.after ≡ true → FallsWith s p row

abbrev pub FallsDataLeft : Type 0
FallsDataLeft = (s : ScenarioValue) (p : List Row) (row : Row) (n : Connection) → (r : LeavingRow s p row n)
    → is_message_out r.turned.change.after ≡ false → is_data (bus p) ≡ true → FallsWith s p row

abbrev pub FallsDataEntered : Type 0
FallsDataEntered = (s : ScenarioValue) (p : List Row) (row : Row) (n : Connection) → (r : LeavingRow s p row n)
    → is_message_out r.turned.change.after ≡ false → is_data (bus p) ≡ false → is_data r.turned.change.after ≡ true
    → FallsWith s p row

abbrev pub FallsTurning : Type 0
FallsTurning = (s : ScenarioValue) (p : List Row) (row : Row) (n : Connection) → (r : LeavingRow s p row n)
    → is_message_out r.turned.change.after ≡ false → is_data (bus p) ≡ false → is_data r.turned.change.after ≡ false
    → FallsWith s p row

pub leaving_by_kinds : FallsWordsEntered → FallsDataLeft → FallsDataEntered → FallsTurning → FallsLeaving
leaving_by_kinds words left entered turning s p row n r atn msg cd io x y h b known asked rest follows e =
    go (is_message_out of.turned.change.after) refl (is_data (bus p)) refl (is_data of.turned.change.after) refl
  where
    w : TurnedRow s p row n
    w = turned_row s p row n r

    known_after : (bus (row ∷ p)).msg ≡ true → (bus (row ∷ p)).cd ≡ true
    known_after z = (link_phase s (row ∷ p) n (stage_of_connection s (row ∷ p) n r.calm.next.stood r.next r.off) z).0

    of : LeavingRow s p row n
    of = record {
      linked = r;
      turned = w;
      turns = ap changes_phase w.change_is
          ∙ leaves_turns s p row n atn msg cd io x y r.calm.was.stood.standing.devices h known e r.next;
      known = λ z. ap (λ (c : Change). c.after.cd) w.change_is
          ∙ known_after (ap (λ (c : Change). c.after.msg) (sym w.change_is) ∙ z);
      begun_is = b;
      atn = atn;
      msg = msg;
      cd = cd;
      io = io;
      x = x;
      y = y;
      was = h;
      known_was = known;
      asked = asked;
      rest = rest;
      follows = follows;
      row_is = e;
    }

    go : (o : Bool) → is_message_out of.turned.change.after ≡ o → (f : Bool) → is_data (bus p) ≡ f
        → (i : Bool) → is_data of.turned.change.after ≡ i → FallsWith s p row
    go true k f g i z = words s p row n of k
    go false k true g i z = left s p row n of k g
    go false k false g true z = entered s p row n of k g z
    go false k false g false z = turning s p row n of k g z
