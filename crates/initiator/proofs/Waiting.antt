-- An initiator that waits does nothing by REQ and ACK, whatever it has to say.
use Rattle.std.proofs.Common.{◌≡◌, ◌==◌, Bool, true, false, refl, Some, None}
use Rattle.std.specs.Prelude.{not, ◌&&◌, if◌then◌else◌}
use Rattle.reaction_model.specs.declared.due.Myself.{Myself}
use Rattle.reaction_model.specs.declared.ends.Answering.{Answering}
use Rattle.reaction_model.specs.declared.ends.Pace.{Pace}
use Rattle.reaction_model.specs.Ends.{bsy_release}
use Rattle.reaction_model.specs.Initiator.{ack_negation, byte_release, initiator_byte, initiator_pulse}
use Rattle.reaction_model.specs.Initiator.{received_byte_ack, sent_byte_ack}
use Rattle.scenario.specs.declared.value.HostDef.{HostDef}
use Rattle.initiator_books.specs.scsi_device.specs.Told.{Told, pace_of}
use Rattle.initiator.specs.Dues.{answering_of_host, myself_by, plain_by}
use Rattle.initiator.specs.States.{InitiatorState}
use Rattle.initiator.specs.Waits.{agree, waits}

pub plain_is : (h : HostDef) (t : Told) (i : InitiatorState)
    → waits t.lines t.sight.bus t.begun (pace_of t (Some h)).pulsed ≡ true → plain_by h t i ≡ None
plain_is h t i e =
    go t.lines.ack t.sight.bus.req t.begun p.pulsed t.lines.bsy (t.sight.bus.io && not (t.lines.data_bits == 0)) e
  where
    p : Pace
    p = pace_of t (Some h)

    me : Myself
    me = myself_by h t i

    a : Answering
    a = answering_of_host t i

    go : (ack req begun pulsed bsy owes : Bool)
        → (agree ack req && (begun && (not pulsed && (not bsy && not owes)))) ≡ true
        → (if bsy then bsy_release t.sight me else if not begun then None
        else if pulsed then initiator_pulse t.sight t.handshakes me p a else if owes then byte_release me p a
        else if ack then (if req then None else ack_negation t.sight me) else if not req then None
        else if t.sight.bus.io then received_byte_ack t.sight t.handshakes me a
        else if me.own.data_bits == 0 then initiator_byte t.sight me a else sent_byte_ack t.sight me) ≡ None
    go true true true false false false x = refl
    go false false true false false false x = refl
    go true false begun pulsed bsy owes x = absurd cc
    go false true begun pulsed bsy owes x = absurd cc
    go true true false pulsed bsy owes x = absurd cc
    go false false false pulsed bsy owes x = absurd cc
    go true true true true bsy owes x = absurd cc
    go false false true true bsy owes x = absurd cc
    go true true true false true owes x = absurd cc
    go false false true false true owes x = absurd cc
    go true true true false false true x = absurd cc
    go false false true false false true x = absurd cc
