-- What the lines MSG, C/D and I/O tell of the phase, and the phase of the lines (6.1.5).
use Rattle.row_laws.proofs
use proofs.Names.{◌≡◌, Bool, true, false, not, ◌&&◌, Option, Some, refl, ap, if◌then◌else◌, and_first, wrong', LineSet}
use proofs.Names.{is_command, is_data, is_message_in, is_message_out, is_status_phase, phase_of, Phase, is_message}
use proofs.Names.{is_data_in}
pub use Rattle.book_laws.proofs.Faith.{out_lines}
pub use Rattle.scsi_device.proofs.PhaseLines.{in_phase, out_phase}

abbrev pub is_status : Phase → Bool
is_status Phase.Status = true
is_status _ = false

abbrev pub is_data_phase : Phase → Bool
is_data_phase Phase.DataIn = true
is_data_phase Phase.DataOut = true
is_data_phase _ = false

abbrev pub is_out_next : Option Phase → Bool
is_out_next (Some Phase.MessageOut) = true
is_out_next _ = false

-- ---- the phase, by the lines

pub message_is : (b : LineSet) → is_message_in b ≡ true → is_message (phase_of b) ≡ true
message_is b e = ap is_message (in_phase b e)

pub command_phase : (b : LineSet) → is_command b ≡ true → phase_of b ≡ Phase.Command
command_phase b e = go b.msg b.cd b.io e
  where
    go : (m d i : Bool) → (not m && d && not i) ≡ true
        → (if m then (if i then Phase.MessageIn else Phase.MessageOut)
        else if d then (if i then Phase.Status else Phase.Command) else if i then Phase.DataIn else Phase.DataOut)
        ≡ Phase.Command
    go true d i z = wrong' z
    go false true true z = wrong' z
    go false true false z = refl
    go false false i z = wrong' z

-- ---- the lines, by the phase

pub data_in_lines : (b : LineSet) → phase_of b ≡ Phase.DataIn → (b.msg ≡ false) × (b.cd ≡ false) × (b.io ≡ true)
data_in_lines b e = go b.msg b.cd b.io (ap is_data_in e)
  where
    go : (m d i : Bool) → is_data_in (if m then (if i then Phase.MessageIn else Phase.MessageOut)
        else if d then (if i then Phase.Status else Phase.Command) else if i then Phase.DataIn else Phase.DataOut)
        ≡ true → (m ≡ false) × (d ≡ false) × (i ≡ true)
    go true d true z = wrong' z
    go true d false z = wrong' z
    go false true true z = wrong' z
    go false true false z = wrong' z
    go false false true z = (refl, refl, refl)
    go false false false z = wrong' z

pub not_message_in : (b : LineSet) → b.msg ≡ false → is_message_in b ≡ false
not_message_in b e = λ i. e i && b.cd && b.io

pub not_message_out : (b : LineSet) → b.msg ≡ false → is_message_out b ≡ false
not_message_out b e = λ i. e i && b.cd && not b.io

pub message_line : (b : LineSet) → is_message_in b ≡ true → b.msg ≡ true
message_line b e = and_first b.msg b.cd (and_first (b.msg && b.cd) b.io e)

pub out_line : (b : LineSet) → is_message_out b ≡ true → b.msg ≡ true
out_line b e = and_first b.msg b.cd (and_first (b.msg && b.cd) (not b.io) e)

-- ---- one phase is not the other

pub out_in : (b : LineSet) → is_message_in b ≡ true → is_message_out b ≡ false
out_in b e = go b.msg b.cd b.io e
  where
    go : (m d i : Bool) → (m && d && i) ≡ true → (m && d && not i) ≡ false
    go true true true z = refl
    go true true false z = wrong' z
    go true false i z = wrong' z
    go false d i z = wrong' z

pub in_out : (b : LineSet) → is_message_out b ≡ true → is_message_in b ≡ false
in_out b e = go b.msg b.cd b.io e
  where
    go : (m d i : Bool) → (m && d && not i) ≡ true → (m && d && i) ≡ false
    go true true true z = wrong' z
    go true true false z = refl
    go true false i z = wrong' z
    go false d i z = wrong' z

pub out_no_status : (b : LineSet) → is_message_out b ≡ true → is_status_phase b ≡ false
out_no_status b e = go b.msg b.cd b.io e
  where
    go : (m d i : Bool) → (m && d && not i) ≡ true → (not m && d && i) ≡ false
    go true d i z = refl
    go false d i z = wrong' z

-- No bytes are pulsed in a message phase.
pub unpulsed : (q : Bool) (b : LineSet) (r : Bool) → is_message (phase_of b) ≡ true → (q && is_data b && r) ≡ false
unpulsed q b r e = go q b.msg b.cd b.io r e
  where
    go : (q m d i r : Bool) → is_message (if m then (if i then Phase.MessageIn else Phase.MessageOut)
        else if d then (if i then Phase.Status else Phase.Command) else if i then Phase.DataIn else Phase.DataOut)
        ≡ true → (q && (not m && not d) && r) ≡ false
    go true true d i r z = refl
    go false true d i r z = refl
    go true false true true r z = wrong' z
    go true false true false r z = wrong' z
    go true false false true r z = wrong' z
    go true false false false r z = wrong' z
    go false false d i r z = refl
