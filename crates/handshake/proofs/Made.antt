-- Each reaction of an end is a row of lines, so a step makes one exactly where one is due.
use Rattle.std.proofs.Common.{ℕ, ◌≡◌, Bool, true, false, List, Option, Some, None, refl}
use Rattle.std.specs.Prelude.{not, ◌&&◌, ◌||◌, ◌==◌, is_some, nat_lt, length, if◌then◌else◌}
use Rattle.bus_trace.specs.declared.rows.Row.{Row}
use Rattle.bus_trace.specs.declared.connection.Connection.{Connection}
use Rattle.bus_trace.specs.Terms.{connection}
use Rattle.bus_lines.specs.Handshakes.{Handshakes, handshakes}
use Rattle.reaction_model.specs.declared.due.Due.{Due}
use Rattle.reaction_model.specs.declared.due.Myself.{Myself}
use Rattle.reaction_model.specs.declared.sight.Sight.{Sight}
use Rattle.reaction_model.specs.declared.ends.Pace.{Pace}
use Rattle.reaction_model.specs.declared.ends.Offering.{Offering}
use Rattle.reaction_model.specs.declared.ends.Answering.{Answering}
use Rattle.reaction_model.specs.Reactions.{due_where}
use Rattle.reaction_model.specs.Sight.{sight}
use Rattle.reaction_model.specs.Target.{bits_if, byte_bits, has_io_turned, target_turn, target_handshake, first_req}
use Rattle.reaction_model.specs.Target.{pulse_turn, target_pulse}
use Rattle.reaction_model.specs.Initiator.{initiator_turn, initiator_handshake, ack_pulse, initiator_pulse}
use Rattle.reaction_model.specs.Ends.{target_due, initiator_due, owes_release}
use Rattle.handshake.specs.declared.end_state.EndState.{EndState}
use Rattle.handshake.specs.Steps.{has_more, self_of, initiator_next, target_next, initiator_hand, target_hand}
use Rattle.handshake.specs.Steps.{answering_by, offering_by}
use Rattle.handshake.specs.Telling.{MakesWhatIsDue}
use Rattle.handshake.proofs.Hands.{step_input, has_lines, makes}

either : (q : Bool) (x y : Option Due) → has_lines x ≡ true → has_lines y ≡ true → has_lines (if q then x else y) ≡ true
either true x y l m = l
either false x y l m = m

where_lines : (q : Bool) (x : Option Due) → has_lines x ≡ true → has_lines (due_where q x) ≡ true
where_lines true x l = l
where_lines false x l = refl

-- ---- the target

first_lines : (v : Sight) (me : Myself) (g : Offering) → has_lines (first_req v me g) ≡ true
first_lines v me g = either (not (has_io_turned v)) _ _ refl (either (me.own.data_bits == 0) _ _ refl refl)

turn_lines : (v : Sight) (h : Handshakes) (me : Myself) (g : Offering) → has_lines (target_turn v h me g) ≡ true
turn_lines v h me g = either (h.requests == 0) _ _ (first_lines v me g) (either g.follows _ _ refl refl)

handshake_lines : (v : Sight) (h : Handshakes) (me : Myself) (g : Offering) →
    has_lines (target_handshake v h me g) ≡ true
handshake_lines v h me g =
    either me.own.req _ _ (either v.bus.ack _ _ refl refl) (either v.bus.ack _ _ refl (turn_lines v h me g))

pulse_turn_lines : (v : Sight) (h : Handshakes) (me : Myself) (p : Pace) (g : Offering) →
    has_lines (pulse_turn v h me p g) ≡ true
pulse_turn_lines v h me p g =
    either g.follows _ _ (either (nat_lt (length h.waiting) p.offset) _ _ refl refl)
    (either (not (length h.waiting == 0) || v.bus.ack) _ _ refl refl)

pulse_lines : (v : Sight) (h : Handshakes) (me : Myself) (p : Pace) (g : Offering) →
    has_lines (target_pulse v h me p g) ≡ true
pulse_lines v h me p g =
    either me.own.req _ _ refl
    (either (h.requests == 0) _ _ (first_lines v me g)
    (either (v.bus.io && not (me.own.data_bits == bits_if g.follows g.byte)) _ _ refl (pulse_turn_lines v h me p g)))

target_lines : (v : Sight) (h : Handshakes) (me : Myself) (p : Pace) (g : Offering) →
    has_lines (target_due true v h me p g) ≡ true
target_lines v h me p g = either p.pulsed _ _ (pulse_lines v h me p g) (handshake_lines v h me g)

target_next_lines : (rows : List Row) (e : EndState) (offered : Option ℕ) (n : Option Connection) →
    has_lines (target_next rows e offered n) ≡ true
target_next_lines rows e offered None = refl
target_next_lines rows e offered (Some n) =
    let me : Myself = self_of e rows n.target in
    where_lines (has_more (sight rows) (handshakes rows) e.pace (is_some offered) me)
    (target_due true (sight rows) (handshakes rows) me e.pace (offering_by offered))
    (target_lines (sight rows) (handshakes rows) me e.pace (offering_by offered))

-- ---- the initiator

host_turn_lines : (v : Sight) (h : Handshakes) (me : Myself) (a : Answering) →
    has_lines (initiator_turn v h me a) ≡ true
host_turn_lines v h me a =
    either (not v.bus.req) _ _ refl (either v.bus.io _ _ refl (either (me.own.data_bits == 0) _ _ refl refl))

host_handshake_lines : (v : Sight) (h : Handshakes) (me : Myself) (a : Answering) →
    has_lines (initiator_handshake v h me a) ≡ true
host_handshake_lines v h me a =
    either me.own.ack _ _ (either v.bus.req _ _ refl refl) (host_turn_lines v h me a)

ack_pulse_lines : (v : Sight) (h : Handshakes) (me : Myself) (p : Pace) (a : Answering) →
    has_lines (ack_pulse v h me p a) ≡ true
ack_pulse_lines v h me p a = either v.bus.io _ _ refl (either (me.own.data_bits == byte_bits a.byte) _ _ refl refl)

host_pulse_lines : (v : Sight) (h : Handshakes) (me : Myself) (p : Pace) (a : Answering) →
    has_lines (initiator_pulse v h me p a) ≡ true
host_pulse_lines v h me p a = either me.own.ack _ _ refl (either (not (length h.waiting == 0)) _ _
    (ack_pulse_lines v h me p a) (either (me.own.data_bits == 0) _ _ refl refl))

initiator_lines : (v : Sight) (h : Handshakes) (me : Myself) (p : Pace) (a : Answering) →
    has_lines (initiator_due true v h me p a) ≡ true
initiator_lines v h me p a =
    either me.own.bsy _ _ refl
    (either p.pulsed _ _ (host_pulse_lines v h me p a)
    (either (owes_release v me) _ _ refl (host_handshake_lines v h me a)))

initiator_next_lines : (rows : List Row) (e : EndState) (offered : Option ℕ) (n : Option Connection) →
    has_lines (initiator_next rows e offered n) ≡ true
initiator_next_lines rows e offered None = refl
initiator_next_lines rows e offered (Some n) =
    let me : Myself = self_of e rows n.initiator in
    where_lines (not me.own.bsy)
    (initiator_due true (sight rows) (handshakes rows) me e.pace (answering_by e.raised offered))
    (initiator_lines (sight rows) (handshakes rows) me e.pace (answering_by e.raised offered))

-- ---- the step

pub initiator_makes : MakesWhatIsDue initiator_hand initiator_next
initiator_makes into rows e now offered flip =
    makes (step_input into rows e now flip) (initiator_next rows e offered (connection rows))
    (initiator_next_lines rows e offered (connection rows))

pub target_makes : MakesWhatIsDue target_hand target_next
target_makes into rows e now offered flip =
    makes (step_input into rows e now flip) (target_next rows e offered (connection rows))
    (target_next_lines rows e offered (connection rows))
