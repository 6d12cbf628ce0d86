-- Where nothing is due of any device, no reaction of a device that does not drive RST is due, and none of an end of a
-- connection.
use Rattle.progress_laws.proofs
use proofs.Names.{inl, inr, ℕ, ◌≡◌, ◌⊎◌, ◌<◌, Bool, true, false, ◌∙◌, List, Option, Some, None, refl, sym, ap}
use proofs.Names.{none-some, LineSet, none, bus, drives, Row, Connection, ScenarioValue, latency_of, sample_due, Due}
use proofs.Names.{begun, least_none, due, IsEnded, AreOfDevices, comes_by, due_calm, off_at, EndLines, Linked}
use proofs.Names.{unreset_due, reset_due, Standing, HasDevice, target_plain, initiator_plain, target_is, initiator_is}

-- That something is due.
pub record SomeDue (o : Option Due) : Type 0 where
  pub row : Due
  pub is : o ≡ Some row

pub nothing_due : (s : ScenarioValue) (p : List Row) (d : ℕ) → IsEnded s p → d < 8 → due s p d ≡ None
nothing_due s p d end lt = least_none (due s p) 8 end d lt

-- A device that does not drive RST is due to do nothing.
pub calm_end : (s : ScenarioValue) (p : List Row) (d : ℕ) → IsEnded s p → AreOfDevices p → d < 8 → (bus p).rst ≡ false
    → SomeDue (unreset_due s p d) → ⊥
calm_end s p d end dv lt calm x =
    let z = comes_by (reset_due s p d) (unreset_due s p d) x.row x.is in
    none-some z.x (sym (nothing_due s p d end lt) ∙ due_calm s p d dv lt (off_at p calm d lt) ∙ z.is)

-- A device that drives a line is there.
pub there_by : (s : ScenarioValue) (p : List Row) (d : ℕ) (on : LineSet → Bool) → Standing s p → d < 8 → on none ≡ false
    → on (drives p d) ≡ true → HasDevice s d
there_by s p d on st lt zero e = go (st.there d lt)
  where
    go : (drives p d ≡ none) ⊎ HasDevice s d → HasDevice s d
    go (inl n) = let w = sym e ∙ ap on n ∙ zero in absurd cc
    go (inr h) = h

-- ---- the ends of a connection

sampled : (q : Bool) (last : ℕ) (flip : Option ℕ) (plain : Option Due) → SomeDue plain
    → SomeDue (sample_due q last flip plain)
sampled true last None plain x = x
sampled true last (Some bit) plain x = record { row = _; is = refl }
sampled false last flip plain x = x

pub moved : (a b : Option Due) → a ≡ b → SomeDue b → SomeDue a
moved a b e x = record { row = x.row; is = e ∙ x.is }

pub target_end : (s : ScenarioValue) (p : List Row) (n : Connection) (g : Bool) (e : EndLines) (lat : ℕ) → IsEnded s p
    → AreOfDevices p → (bus p).rst ≡ false → Linked p n e → begun p ≡ g → latency_of s n.target ≡ Some lat
    → SomeDue (target_plain s p n g e lat) → ⊥
target_end s p n g e lat end dv calm h b there x = calm_end s p n.target end dv h.target_below calm
    (moved _ _ (target_is s p n e g lat dv h b there) (sampled _ _ _ _ x))

pub initiator_end : (s : ScenarioValue) (p : List Row) (n : Connection) (g : Bool) (e : EndLines) (lat : ℕ)
    → IsEnded s p → AreOfDevices p → (bus p).rst ≡ false → Linked p n e → begun p ≡ g
    → latency_of s n.initiator ≡ Some lat → SomeDue (initiator_plain s p n g e lat) → ⊥
initiator_end s p n g e lat end dv calm h b there x = calm_end s p n.initiator end dv h.initiator_below calm
    (moved _ _ (initiator_is s p n e g lat dv h b there) (sampled _ _ _ _ x))
