-- What an initiator does next by REQ and ACK is the same whatever byte it has, where it drives none, and at any stage.
use Rattle.std.proofs.Common.{ℕ, ◌≡◌, ◌==◌, Bool, true, false, refl, length, Option, Some, None}
use Rattle.std.specs.Prelude.{if◌then◌else◌, not, ◌&&◌, ◌||◌}
use Rattle.bus_lines.specs.Handshakes.{Handshakes}
use Rattle.bus_trace.specs.declared.connection.Connection.{Connection}
use Rattle.reaction_model.specs.declared.due.Due.{Due}
use Rattle.reaction_model.specs.declared.due.Myself.{Myself}
use Rattle.reaction_model.specs.declared.sight.Sight.{Sight}
use Rattle.reaction_model.specs.declared.ends.Answering.{Answering}
use Rattle.reaction_model.specs.declared.ends.Pace.{Pace}
use Rattle.reaction_model.specs.Ends.{bsy_release, initiator_due}
use Rattle.reaction_model.specs.Initiator.{ack_negation, ack_pulse_end, byte_release, initiator_byte, pulsed_byte}
use Rattle.reaction_model.specs.Initiator.{received_byte_ack, received_byte_pulse, sent_byte_ack, sent_byte_pulse}
use Rattle.reaction_model.specs.Target.{byte_bits}
use Rattle.scenario.specs.declared.value.FaultDef.{FaultDef}
use Rattle.scenario.specs.declared.value.HostDef.{HostDef}
use Rattle.initiator_books.specs.scsi_device.specs.Told.{Told, at_no_stage}
use Rattle.initiator.specs.Dues.{calm_by, connected_by, drives_byte, link_by, stands_calm, with_byte_if}
use Rattle.initiator.specs.States.{InitiatorState}

pub any_stage : (begun : Bool) (v : Sight) (b : Handshakes) (me : Myself) (p : Pace) (a : Answering)
    → initiator_due begun (at_no_stage v) b me p a ≡ initiator_due begun v b me p a
any_stage begun v b me p a = refl

pub any_byte : (begun : Bool) (v : Sight) (b : Handshakes) (me : Myself) (p : Pace) (a : Answering)
    → initiator_due begun v b me p (with_byte_if (drives_byte me.own v.bus p.pulsed) a) ≡ initiator_due begun v b me p a
any_byte begun v b me p a =
    go me.own.bsy begun p.pulsed v.bus.io me.own.ack v.bus.req (me.own.data_bits == 0) (length b.waiting == 0)
  where
    -- with the byte, or without
    next : (bsy begun pulsed io ack req bare none : Bool) → Answering → Option Due
    next bsy begun pulsed io ack req bare none g =
        if bsy then bsy_release v me else if not begun then None else if pulsed
        then (if ack then ack_pulse_end v me p else if not none then (if io then received_byte_pulse v b me p
        else if me.own.data_bits == byte_bits g.byte then sent_byte_pulse v b me p g else pulsed_byte b me p g)
        else if bare then None else byte_release me p g)
        else if io && not bare then byte_release me p g
        else if ack then (if req then None else ack_negation v me) else if not req then None
        else if io then received_byte_ack v b me g else if bare then initiator_byte v me g else sent_byte_ack v me

    go : (bsy begun pulsed io ack req bare none : Bool)
        → next bsy begun pulsed io ack req bare none (with_byte_if (not io && (not ack && (pulsed || (req && bare)))) a)
        ≡ next bsy begun pulsed io ack req bare none a
    go true begun pulsed io ack req bare none = refl
    go false false pulsed io ack req bare none = refl
    go false true true io true req bare none = refl
    go false true true io false req true true = refl
    go false true true io false req false true = refl
    go false true true true false req bare false = refl
    go false true true false false req bare false = refl
    go false true false true ack req false none = refl
    go false true false true true true true none = refl
    go false true false true true false true none = refl
    go false true false true false true true none = refl
    go false true false true false false true none = refl
    go false true false false true true bare none = refl
    go false true false false true false bare none = refl
    go false true false false false false bare none = refl
    go false true false false false true true none = refl
    go false true false false false true false none = refl

-- ---- by the connection that stands while RST is false

abbrev pub calm_in : HostDef → Told → Option FaultDef → InitiatorState → Option Connection → Option Due
calm_in h t f i None = link_by h t f i
calm_in h t f i (Some n) = connected_by h t f i n

pub calm_is : (h : HostDef) (t : Told) (f : Option FaultDef) (i : InitiatorState) (rst : Bool) (n : Option Connection)
    → calm_in h t f i (stands_calm rst n) ≡ calm_by h t f i rst n
calm_is h t f i true n = refl
calm_is h t f i false None = refl
calm_is h t f i false (Some n) = refl
