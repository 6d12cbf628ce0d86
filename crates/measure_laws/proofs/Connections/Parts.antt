-- The measure falls with each row, if it falls with those on the way to a connection and with those within one: all
-- that begin a connection, end it, raise RST or stand under it are done.
use Rattle.measure_laws.proofs
use proofs.Names.{suc, ◌≡◌, ◌≤◌, true, false, ◌∙◌, List, ◌∷◌, Option, Some, None, refl, sym, wrong, connection, bus}
use proofs.Names.{Row, Connection, ScenarioValue, Obeys, IsLeast, IsPrompt, due, least_is, unreset_due, CalmStanding}
use proofs.Names.{link_calm, AnyStage, any_apart as apart, linked, by_bool, NextStood, Whole, standing_next, whole}
use proofs.{Names.{Falls, measure}, Connections.{BeginFalls.{begin_falls}, EndFalls.{end_falls}}}
use proofs.Resets.Falls.{FallsOrCalm, by_calm, by_reset, falls_or_calm, under_reset_falls}

-- What is known of a row that is due without resets, where RST is false before it.
pub record CalmRow (s : ScenarioValue) (p : List Row) (row : Row) : Type 0 where
  pub obeys : Obeys s
  pub prompt : IsPrompt s (row ∷ p)
  pub was : Whole s p
  pub next : NextStood s p row
  pub off : (bus p).rst ≡ false
  pub standing : CalmStanding s p
  pub least : IsLeast (unreset_due s p) 8 row

-- No connection stands before or after it.
abbrev pub FallsApart : Type 0
FallsApart = (s : ScenarioValue) (p : List Row) (row : Row) → CalmRow s p row → connection p ≡ None
    → connection (row ∷ p) ≡ None → suc (measure s (row ∷ p)) ≤ measure s p

-- One stands before it and after it.
abbrev pub FallsWithin : Type 0
FallsWithin = (s : ScenarioValue) (p : List Row) (row : Row) (n m : Connection) → CalmRow s p row
    → connection p ≡ Some n → connection (row ∷ p) ≡ Some m → suc (measure s (row ∷ p)) ≤ measure s p

-- One that frees the bus raises no RST.
abbrev pub FreesCalm : Type 0
FreesCalm = (s : ScenarioValue) (p : List Row) (row : Row) (n : Connection) → CalmRow s p row → connection p ≡ Some n
    → connection (row ∷ p) ≡ None → (bus (row ∷ p)).rst ≡ false

pub falls_by_parts : FallsApart → FallsWithin → FreesCalm → Falls
falls_by_parts ways within calm s p row o prompt =
    by_bool (bus p).rst
    (λ on. under on was.stood.here)
    (λ off. by_kind off (falls_or_calm s p row was.stood.standing off least))
  where
    was : Whole s p
    was = whole s p o prompt.0

    next : NextStood s p row
    next = standing_next s p row o prompt was

    least : IsLeast (due s p) 8 row
    least = least_is s p row prompt.1

    under : (bus p).rst ≡ true → AnyStage s p → suc (measure s (row ∷ p)) ≤ measure s p
    under on (apart h alone) = under_reset_falls s p row was.stood.standing.devices h next.obeys on least
    under on (linked n h) = wrong (sym on ∙ link_calm s p n h)

    by_row : CalmRow s p row → (a : Option Connection) → connection p ≡ a
        → (b : Option Connection) → connection (row ∷ p) ≡ b → suc (measure s (row ∷ p)) ≤ measure s p
    by_row r None e None f = ways s p row r e f
    by_row r None e (Some n) f = begin_falls s p row n o prompt was e f
    by_row r (Some n) e None f = end_falls s p row n o prompt was e f r.off (calm s p row n r e f)
    by_row r (Some n) e (Some m) f = within s p row n m r e f

    by_kind : (bus p).rst ≡ false → FallsOrCalm s p row → suc (measure s (row ∷ p)) ≤ measure s p
    by_kind off (by_reset z) = z
    by_kind off (by_calm standing first) = by_row
        (record { obeys = o; prompt = prompt; was = was; next = next; off = off; standing = standing; least = first })
        (connection p) refl (connection (row ∷ p)) refl
