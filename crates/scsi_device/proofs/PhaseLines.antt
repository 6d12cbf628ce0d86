-- What the lines of a phase tell of it, and the phase of its lines (6.1.5).
use Rattle.bus_trace.specs.LineSet.{LineSet}
use Rattle.std.specs.Prelude.{if◌then◌else◌, not, ◌&&◌}
use Rattle.std.proofs.Common.{false, refl, ◌≡◌, Bool, true, sym, true≢false}
use Rattle.due_model.specs.dialogue_model.specs.NextPhase.{phase_of}
use Rattle.scsi_device.specs.Heard.{is_command_phase}
use Rattle.bus_trace.specs.Phases.{is_command, is_message_in, is_message_out}
use Rattle.due_model.specs.dialogue_model.specs.declared.exchange.Phase.TheVariants as phases
use Rattle.due_model.specs.dialogue_model.specs.declared.exchange.Phase.{Phase}

pub command_is : (bus : LineSet) → is_command bus ≡ is_command_phase (phase_of bus)
command_is bus = go bus.msg bus.cd bus.io
  where
    go : (m c o : Bool)
        → (not m && c && not o) ≡ is_command_phase (if m then (if o then phases.MessageIn else phases.MessageOut)
        else if c then (if o then phases.Status else phases.Command) else if o then phases.DataIn else phases.DataOut)
    go true c true = refl
    go true c false = refl
    go false true true = refl
    go false true false = refl
    go false false true = refl
    go false false false = refl

pub no_input : (b : LineSet) → phase_of b ≡ phases.DataOut → b.io ≡ false
no_input b e = go b.msg b.cd b.io e
  where
    go : (x y z : Bool) → (if x then (if z then phases.MessageIn else phases.MessageOut)
        else if y then (if z then phases.Status else phases.Command) else if z then phases.DataIn else phases.DataOut)
        ≡ phases.DataOut → z ≡ false
    go true y true e = cc
    go true y false e = refl
    go false true true e = cc
    go false true false e = refl
    go false false true e = cc
    go false false false e = refl

pub phase_is_command : (phase : Phase) → is_command_phase phase ≡ true → phase ≡ phases.Command
phase_is_command phases.Command e = refl
phase_is_command phases.MessageOut e = cc
phase_is_command phases.MessageIn e = cc
phase_is_command phases.Status e = cc
phase_is_command phases.DataIn e = cc
phase_is_command phases.DataOut e = cc

pub in_phase : (b : LineSet) → is_message_in b ≡ true → phase_of b ≡ phases.MessageIn
in_phase b e = go b.msg b.cd b.io e
  where
    go : (m d i : Bool) → (m && d && i) ≡ true → (if m then (if i then phases.MessageIn else phases.MessageOut)
        else if d then (if i then phases.Status else phases.Command) else if i then phases.DataIn else phases.DataOut)
        ≡ phases.MessageIn
    go true true true e = refl
    go true true false e = absurd (true≢false (sym e))
    go true false i e = absurd (true≢false (sym e))
    go false d i e = absurd (true≢false (sym e))

pub out_phase : (b : LineSet) → is_message_out b ≡ true → phase_of b ≡ phases.MessageOut
out_phase b e = go b.msg b.cd b.io e
  where
    go : (m d i : Bool) → (m && d && not i) ≡ true
        → (if m then (if i then phases.MessageIn else phases.MessageOut)
        else if d then (if i then phases.Status else phases.Command) else if i then phases.DataIn else phases.DataOut)
        ≡ phases.MessageOut
    go true true true e = absurd (true≢false (sym e))
    go true true false e = refl
    go true false i e = absurd (true≢false (sym e))
    go false d i e = absurd (true≢false (sym e))
