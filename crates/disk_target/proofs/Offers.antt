-- What the target has to do in a phase, in which and after which its process gives no data, is the same whatever that
-- gives.
use Rattle.std.proofs.Common.{ℕ, ◌≡◌, ◌∙◌, Bool, true, false, List, refl, subst, Option, Some, None}
use Rattle.std.specs.Prelude.{if◌then◌else◌, nat_lt}
use Rattle.bus_trace.specs.LineSet.{LineSet}
use Rattle.bus_lines.specs.Handshakes.{Handshakes}
use Rattle.scenario.specs.declared.value.TargetDef.{TargetDef}
use Rattle.reaction_model.specs.declared.ends.Offering.{Offering}
use Rattle.due_model.specs.dialogue_model.specs.declared.exchange.Arrival.{Arrival}
use Rattle.due_model.specs.dialogue_model.specs.declared.exchange.Cause.{Cause}
use Rattle.due_model.specs.dialogue_model.specs.declared.exchange.Cause.TheVariants as causes
use Rattle.due_model.specs.dialogue_model.specs.declared.exchange.Leaving.{Leaving}
use Rattle.due_model.specs.dialogue_model.specs.declared.exchange.Next.{Next}
use Rattle.due_model.specs.dialogue_model.specs.declared.exchange.Next.TheVariants as nexts
use Rattle.due_model.specs.dialogue_model.specs.declared.exchange.Phase.{Phase}
use Rattle.due_model.specs.dialogue_model.specs.declared.exchange.Phase.TheVariants as phases
use Rattle.due_model.specs.dialogue_model.specs.declared.exchange.Plan.{Plan}
use Rattle.due_model.specs.dialogue_model.specs.declared.exchange.Task.{Task}
use Rattle.due_model.specs.dialogue_model.specs.Arrivals.{policy_of}
use Rattle.due_model.specs.dialogue_model.specs.Ends.{offering_by, seek_before}
use Rattle.due_model.specs.dialogue_model.specs.NextPhase.{Serving, phase_of, phase_leaving, message_out_leaving}
use Rattle.due_model.specs.dialogue_model.specs.NextPhase.{after_messages, unless_attention}
use Rattle.due_model.specs.dialogue_model.specs.PhaseBytes.{phase_byte, run_length_if, follows_in, lines_by}
use Rattle.target_course.specs.Alike.{AreAlike}
use Rattle.target_course.proofs.Agreeing.{serves}
use Rattle.disk_target.specs.Bytes.{gives_data}

-- The phase of these three lines.
abbrev of_lines : Bool → Bool → Bool → Phase
of_lines m c o =
    if m then (if o then phases.MessageIn else phases.MessageOut)
    else if c then (if o then phases.Status else phases.Command)
    else if o then phases.DataIn
    else phases.DataOut

abbrev pub given_too : Serving → List ℕ → Serving
given_too v g = serves v.def v.plan v.task g v.arrival

leaving_same :
    (d : Option TargetDef) (p : Plan) (t : Option Task) (g h : List ℕ) (a : Arrival) (atn : Bool) (phase : Phase)
    → phase_leaving (serves d p t g a) atn phase ≡ phase_leaving (serves d p t h a) atn phase
leaving_same d p t g h a atn phases.MessageOut = by p.cause
  where
    by : (c : Cause) → message_out_leaving (serves d p t g a) c ≡ message_out_leaving (serves d p t h a) c
    by causes.Selected = refl
    by causes.InMessage = refl
    by causes.InData = refl
    by causes.InStatus = refl
leaving_same d p t g h a atn phases.MessageIn = by p.next
  where
    by : (n : Next) → unless_attention atn (after_messages (serves d p t g a) n)
        ≡ unless_attention atn (after_messages (serves d p t h a) n)
    by nexts.Command = refl
    by nexts.Status = refl
    by nexts.GoOn = refl
    by nexts.FreeBus = refl
leaving_same d p t g h a atn phases.Command = refl
leaving_same d p t g h a atn phases.DataIn = refl
leaving_same d p t g h a atn phases.DataOut = refl
leaving_same d p t g h a atn phases.Status = refl

-- A phase from the initiator is left with no byte.
lines_out :
    (d : Option TargetDef) (p : Plan) (t : Option Task) (g h : List ℕ) (a : Arrival) (l : Leaving) (to : Option Phase)
    → lines_by (serves d p t g a) false l to ≡ lines_by (serves d p t h a) false l to
lines_out d p t g h a l None = refl
lines_out d p t g h a l (Some phase) = refl

-- And so is one to it, but for DATA IN.
lines_after : (d : Option TargetDef) (p : Plan) (t : Option Task) (g h : List ℕ) (a : Arrival) (atn : Bool) (n : Next)
    → gives_data phases.MessageIn n ≡ false
    → lines_by (serves d p t g a) true (unless_attention atn (after_messages (serves d p t g a) n))
    (unless_attention atn (after_messages (serves d p t g a) n)).to
    ≡ lines_by (serves d p t h a) true (unless_attention atn (after_messages (serves d p t h a) n))
    (unless_attention atn (after_messages (serves d p t h a) n)).to
lines_after d p t g h a true n e = refl
lines_after d p t g h a false nexts.Command e = refl
lines_after d p t g h a false nexts.Status e = refl
lines_after d p t g h a false nexts.FreeBus e = refl
lines_after d p t g h a false nexts.GoOn e = cc

to_same : (d : Option TargetDef) (p : Plan) (t : Option Task) (g h : List ℕ) (a : Arrival) (atn m c o : Bool)
    → gives_data (of_lines m c o) p.next ≡ false → lines_by (serves d p t g a) o
    (phase_leaving (serves d p t g a) atn (of_lines m c o)) (phase_leaving (serves d p t g a) atn (of_lines m c o)).to
    ≡ lines_by (serves d p t h a) o (phase_leaving (serves d p t h a) atn (of_lines m c o))
    (phase_leaving (serves d p t h a) atn (of_lines m c o)).to
to_same d p t g h a atn m c false e =
    let l : Leaving = phase_leaving (serves d p t h a) atn (of_lines m c false) in
    (λ i. lines_by (serves d p t g a) false (leaving_same d p t g h a atn (of_lines m c false) i)
    (leaving_same d p t g h a atn (of_lines m c false) i).to)
    ∙ lines_out d p t g h a l l.to
to_same d p t g h a atn true c true e = lines_after d p t g h a atn p.next e
to_same d p t g h a true false true true e = refl
to_same d p t g h a false false true true e = refl
to_same d p t g h a atn false false true e = cc

byte_same : (d : Option TargetDef) (p : Plan) (t : Option Task) (g h : List ℕ) (a : Arrival) (place : ℕ) (m c o : Bool)
    → gives_data (of_lines m c o) p.next ≡ false → phase_byte (serves d p t g a) (of_lines m c o) p.messages 0 place
    ≡ phase_byte (serves d p t h a) (of_lines m c o) p.messages 0 place
byte_same d p t g h a place true c true e = refl
byte_same d p t g h a place true c false e = refl
byte_same d p t g h a place false true true e = refl
byte_same d p t g h a place false true false e = refl
byte_same d p t g h a place false false true e = cc
byte_same d p t g h a place false false false e = refl

follows_same : (d : Option TargetDef) (p : Plan) (t : Option Task) (g h : List ℕ)
    (a : Arrival) (pulsed : Bool) (r : Handshakes) (atn m c o : Bool)
    → (if pulsed then nat_lt r.requests (run_length_if (policy_of d) t)
    else follows_in (serves d p t g a) r atn (of_lines m c o))
    ≡ (if pulsed then nat_lt r.requests (run_length_if (policy_of d) t)
    else follows_in (serves d p t h a) r atn (of_lines m c o))
follows_same d p t g h a true r atn m c o = refl
follows_same d p t g h a false r atn true c true = refl
follows_same d p t g h a false r atn true c false = refl
follows_same d p t g h a false r atn false true true = refl
follows_same d p t g h a false r atn false true false = refl
follows_same d p t g h a false r atn false false true = refl
follows_same d p t g h a false r atn false false false = refl

offering_same : (d : Option TargetDef) (p : Plan) (t : Option Task) (g h : List ℕ) (a : Arrival)
    (pulsed : Bool) (bus : LineSet) (r : Handshakes) → gives_data (phase_of bus) p.next ≡ false
    → offering_by (serves d p t g a) true pulsed bus r ≡ offering_by (serves d p t h a) true pulsed bus r
offering_same d p t g h a pulsed bus r e = λ i. record {
  byte = byte_same d p t g h a r.requests bus.msg bus.cd bus.io e i;
  follows = follows_same d p t g h a pulsed r bus.atn bus.msg bus.cd bus.io i;
  to = to_same d p t g h a bus.atn bus.msg bus.cd bus.io e i;
  wait = seek_before (serves d p t h a) bus;
}

-- So it is alike what it was alike with other bytes.
pub alike_without :
    (begun pulsed asks io : Bool) (bus : LineSet) (r : Handshakes) (v : Serving) (g h : List ℕ) (w : Offering)
    → (begun ≡ true → gives_data (phase_of bus) v.plan.next ≡ false)
    → AreAlike begun pulsed asks io r.requests (offering_by (given_too v g) begun pulsed bus r) w
    → AreAlike begun pulsed asks io r.requests (offering_by (given_too v h) begun pulsed bus r) w
alike_without false pulsed asks io bus r v g h w e x =
    record { follows = λ z. cc; byte = λ z. absurd cc; to = λ z. absurd cc; wait = λ z. absurd cc }
alike_without true pulsed asks io bus r v g h w e x = subst
    (λ (o : Offering). AreAlike true pulsed asks io r.requests o w)
    (offering_same v.def v.plan v.task g h v.arrival pulsed bus r (e refl)) x
