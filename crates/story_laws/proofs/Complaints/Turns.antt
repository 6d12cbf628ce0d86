-- MESSAGE OUT comes after a selection, or where the initiator raised ATN in a phase to it (6.1.3, 6.2.1).
use Rattle.story_laws.proofs
use proofs.Names.{ℕ, ◌≡◌, Bool, true, false, ◌∙◌, Some, refl, sym, ap, wrong, wrong', ScenarioValue, Serving}
use proofs.Names.{leaving_by, phase_leaving, phase_of, Leaving, Phase, RunState, bus_of, leaving, serving_of}
use proofs.{Names.{is_out_phase, is_out_next}, Pointers.Leavings.{is_attended}}
use Rattle.row_laws.specs.link_laws.proofs.LeavingWays as ways

pub attended : {v : Serving} {atn : Bool} {phase : Phase} {l : Leaving} → ways.Leaves v atn phase l
    → is_out_next l.to ≡ true → (atn ≡ true) × (is_attended phase ≡ true)
attended (ways.attended _ ways.in_message a) e = (a, refl)
attended (ways.attended _ ways.in_data a) e = (a, refl)
attended (ways.attended _ ways.in_status a) e = (a, refl)
attended _ e = wrong' e

pub record IsAttended (k : RunState) : Type 0 where
  pub attends : (bus_of k).atn ≡ true
  pub phase : is_attended (phase_of (bus_of k)) ≡ true

pub attended_for : (s : ScenarioValue) (k : RunState) (dev : ℕ) → k.exchange.begun ≡ true
    → is_out_phase (phase_of (bus_of k)) ≡ false → is_out_next (leaving s k dev).to ≡ true → IsAttended k
attended_for s k dev b o to =
    let phase : Phase = phase_of (bus_of k) in
    let is = ap (λ (q : Bool). is_out_next (leaving_by (serving_of s k dev) q (bus_of k)).to) b in
    let w = attended (ways.leaves (serving_of s k dev) (bus_of k).atn phase) (sym is ∙ to) in
    record { attends = w.0; phase = w.1 }

-- With ATN true a phase to the initiator is left for MESSAGE OUT.
pub left_for_out : (s : ScenarioValue) (k : RunState) (dev : ℕ) → k.exchange.begun ≡ true
    → is_attended (phase_of (bus_of k)) ≡ true → (bus_of k).atn ≡ true → (leaving s k dev).to ≡ Some Phase.MessageOut
left_for_out s k dev b to atn = ap (λ (q : Bool). (leaving_by v q (bus_of k)).to) b
    ∙ ap (λ (q : Bool). (phase_leaving v q (phase_of (bus_of k))).to) atn ∙ go (phase_of (bus_of k)) to
  where
    v : Serving
    v = serving_of s k dev

    go : (x : Phase) → is_attended x ≡ true → (phase_leaving v true x).to ≡ Some Phase.MessageOut
    go Phase.MessageOut e = wrong (sym e)
    go Phase.Command e = wrong (sym e)
    go Phase.DataOut e = wrong (sym e)
    go _ e = refl
