-- What the target of a connection has to do, as far as what it does next tells, is alike to all that it has to do.
use Rattle.std.proofs.Common.{ℕ, ◌≡◌, ◌==◌, ◌∙◌, Bool, true, false, refl, sym}
use Rattle.std.specs.Prelude.{◌&&◌}
use Rattle.bus_trace.specs.LineSet.{LineSet}
use Rattle.bus_lines.specs.Handshakes.{Handshakes}
use Rattle.due_model.specs.dialogue_model.specs.Ends.{follows_by, offering_by}
use Rattle.due_model.specs.dialogue_model.specs.NextPhase.{Serving, phase_of}
use Rattle.due_model.specs.dialogue_model.specs.PhaseBytes.{phase_byte}
use Rattle.target_course.specs.Alike.{AreAlike, is_driven}
use Rattle.disk_target.specs.Needs.{goes_on_in, going_on, leaving_offering}

-- Where it goes on in the phase it is not about to leave it.
goes_on_needs : (asks follows bare : Bool) → goes_on_in asks follows bare ≡ true → asks ≡ false → follows ≡ false
    → bare ≡ false → false ≡ true
goes_on_needs asks follows bare e a f n = (λ i. goes_on_in (sym a i) (sym f i) (sym n i)) ∙ e

pub goes_on_alike : (v : Serving) (begun pulsed asks follows : Bool) (bus : LineSet) (r : Handshakes) (byte : ℕ)
    → follows ≡ follows_by v pulsed bus r → goes_on_in asks follows (r.requests == 0) ≡ true
    → ((bus.io && is_driven (r.requests == 0) follows asks pulsed) ≡ true
    → byte ≡ phase_byte v (phase_of bus) v.plan.messages 0 r.requests)
    → AreAlike begun pulsed asks bus.io r.requests (going_on byte follows) (offering_by v begun pulsed bus r)
goes_on_alike v begun pulsed asks follows bus r byte same e k = record {
  follows = λ z. same;
  byte = λ z io d. k (λ i. io i && d i);
  to = λ z a f n. let never : false ≡ true = goes_on_needs asks follows (r.requests == 0) e a f n in absurd cc;
  wait = λ z a f n. let never : false ≡ true = goes_on_needs asks follows (r.requests == 0) e a f n in absurd cc;
}

none_follows : (asks follows bare : Bool) → goes_on_in asks follows bare ≡ false → false ≡ follows
none_follows true follows bare e = cc
none_follows false true bare e = cc
none_follows false false bare e = refl

never_driven : (asks follows bare pulsed : Bool) → goes_on_in asks follows bare ≡ false
    → is_driven bare false asks pulsed ≡ true → false ≡ true
never_driven true follows bare pulsed e d = cc
never_driven false true bare pulsed e d = cc
never_driven false false true pulsed e d = cc
never_driven false false false pulsed e d = d

pub leaves_alike : (v : Serving) (begun pulsed asks : Bool) (bus : LineSet) (r : Handshakes)
    → goes_on_in asks (follows_by v pulsed bus r) (r.requests == 0) ≡ false
    → AreAlike begun pulsed asks bus.io r.requests (leaving_offering v begun bus) (offering_by v begun pulsed bus r)
leaves_alike v begun pulsed asks bus r e = record {
  follows = λ z. none_follows asks (follows_by v pulsed bus r) (r.requests == 0) e;
  byte = λ z io d.
      let never : false ≡ true = never_driven asks (follows_by v pulsed bus r) (r.requests == 0) pulsed e d in
      absurd cc;
  to = λ z a f n. refl;
  wait = λ z a f n. refl;
}
