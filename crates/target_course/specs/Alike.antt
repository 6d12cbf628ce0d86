-- Two things that the target of a connection may have to do in the phase, between which nothing that it does next
-- tells.
use Rattle.std.specs.Prelude.{ℕ, ◌≡◌, ◌==◌, Bool, true, false, ◌&&◌, ◌||◌}
use Rattle.reaction_model.specs.declared.ends.Offering.{Offering}

-- In a phase to the initiator it drives a byte of its own as the first one, `none` yet; then one that follows, as it
-- negates REQ, `asks`, and by pulses (6.1.5.1, 6.1.5.2).
abbrev pub is_driven : Bool → Bool → Bool → Bool → Bool
is_driven none follows asks pulsed = none || (follows && (asks || pulsed))

-- A byte of its own it needs to know where it drives that; and how it leaves the phase once no byte follows, where it
-- does not drive REQ, so that no byte is on its way.
pub record AreAlike (begun pulsed asks io : Bool) (requests : ℕ) (g h : Offering) : Type 0 where
  pub follows : begun ≡ true → g.follows ≡ h.follows
  pub byte : begun ≡ true → io ≡ true → is_driven (requests == 0) g.follows asks pulsed ≡ true → g.byte ≡ h.byte
  pub to : begun ≡ true → asks ≡ false → g.follows ≡ false → (requests == 0) ≡ false → g.to ≡ h.to
  pub wait : begun ≡ true → asks ≡ false → g.follows ≡ false → (requests == 0) ≡ false → g.wait ≡ h.wait
