-- What a line says, apart from what stands before it: one form for each kind of line.
use Rattle.std.specs.Prelude.{ℕ, List, Option, Some, codes}
use Rattle.text_words.specs.Words.{Number, ◌>>=◌, after, hex_digits_at, bytes_of, is_whole}
use Rattle.scenario.specs.declared.form.Form.{Form}
use Rattle.scenario.specs.declared.form.Form.TheVariants as forms
use Rattle.scenario.specs.declared.form.HostForm.{HostForm}
use Rattle.scenario.specs.declared.form.TargetForm.{TargetForm}
use Rattle.scenario.specs.declared.form.UnitForm.{UnitForm}
use Rattle.scenario.specs.declared.form.FillForm.{FillForm}
use Rattle.scenario.specs.declared.form.TapeForm.{TapeForm}
use Rattle.scenario.specs.declared.form.LoadForm.{LoadForm}
use Rattle.scenario.specs.declared.form.CmdForm.{CmdForm}
use Rattle.scenario.specs.declared.form.AbortForm.{AbortForm}
use Rattle.scenario.specs.declared.form.ResetForm.{ResetForm}
use Rattle.scenario.specs.declared.form.FaultForm.{FaultForm}
use Rattle.scenario.specs.declared.form.TagForm.{TagForm}
use Rattle.scenario.specs.Parts.{or, numbered_at, exactly_at, flag_at, policy_at, pick_at, tag_at, PayloadSaid}
use Rattle.scenario.specs.Parts.{payload_said, payload_at, what_at, ObjectSaid, object_said, object_at}

-- What a fill's line says.
pub record FillSaid : Type 0 where
  pub target : Number
  pub unit : Number
  pub lba : Number
  pub bytes : List ℕ

-- What a load's line says.
pub record LoadSaid : Type 0 where
  pub target : Number
  pub unit : Number
  pub what : ObjectSaid

-- What a command's line says.
pub record CmdSaid : Type 0 where
  pub host : Number
  pub target : Number
  pub unit : Number
  pub at : Number
  pub tag : TagForm
  pub cdb : List ℕ
  pub payload : PayloadSaid

-- What a line says, by its kind.
pub data Said : Type 0 where
  scsi_line : ℕ → Said
  initiator_line : HostForm → Said
  target_line : TargetForm → Said
  unit_line : UnitForm → Said
  fill_line : FillSaid → Said
  tape_line : TapeForm → Said
  load_line : LoadSaid → Said
  cmd_line : CmdSaid → Said
  abort_line : AbortForm → Said
  reset_line : ResetForm → Said
  fault_line : FaultForm → Said
  end_line : Said

-- What the program's form of a fill says.
abbrev pub fill_said : FillForm → FillSaid
fill_said f = record { target = f.target; unit = f.unit; lba = f.lba; bytes = bytes_of f.digits.now }

-- What the program's form of a load says.
abbrev pub load_said : LoadForm → LoadSaid
load_said f = record { target = f.target; unit = f.unit; what = object_said f.what }

-- What the program's form of a command says.
abbrev pub cmd_said : CmdForm → CmdSaid
cmd_said c = record {
  host = c.host;
  target = c.target;
  unit = c.unit;
  at = c.at;
  tag = c.tag;
  cdb = bytes_of c.cdb.now;
  payload = payload_said c.payload;
}

-- What the program's form of a line says.
abbrev pub said : Form → Said
said (forms.Scsi v) = scsi_line v
said (forms.Initiator f) = initiator_line f
said (forms.Target f) = target_line f
said (forms.Unit f) = unit_line f
said (forms.Fill f) = fill_line (fill_said f)
said (forms.Tape f) = tape_line f
said (forms.Load f) = load_line (load_said f)
said (forms.Cmd f) = cmd_line (cmd_said f)
said (forms.Abort f) = abort_line f
said (forms.Reset f) = reset_line f
said (forms.Fault f) = fault_line f
said forms.End = end_line

-- scsi 1, scsi 2, scsi 3
unfoldable pub scsi_at : List ℕ → Option Said
scsi_at line = or (exactly_at (codes "scsi 1") line >>= λ _. Some (scsi_line 1))
    (or (exactly_at (codes "scsi 2") line >>= λ _. Some (scsi_line 2))
    (exactly_at (codes "scsi 3") line >>= λ _. Some (scsi_line 3)))

-- initiator D latency L open N retries R sync P O lag G, and in texts 2 and 3 also: offers YN
unfoldable pub initiator_at : List ℕ → Option Said
initiator_at line = do
  device ← numbered_at (codes "initiator ") line
  latency ← numbered_at (codes " latency ") device.1
  most ← numbered_at (codes " open ") latency.1
  retries ← numbered_at (codes " retries ") most.1
  period ← numbered_at (codes " sync ") retries.1
  offset ← numbered_at (codes " ") period.1
  lag ← numbered_at (codes " lag ") offset.1
  offers ← flag_at (codes " offers ") lag.1
  Some (initiator_line (record {
    device = device.0;
    latency = latency.0;
    «open» = most.0;
    retries = retries.0;
    period = period.0;
    offset = offset.0;
    lag = lag.0;
    offers = offers;
  }))

-- target D latency L retries R disc POLICY pick PICK seek S sync P O, and in texts 2 and 3 also: begins YN
unfoldable pub target_at : List ℕ → Option Said
target_at line = do
  device ← numbered_at (codes "target ") line
  latency ← numbered_at (codes " latency ") device.1
  retries ← numbered_at (codes " retries ") latency.1
  a ← after (codes " disc ") retries.1
  disc ← policy_at a
  b ← after (codes " pick ") disc.1
  pick ← pick_at b
  seek ← numbered_at (codes " seek ") pick.1
  period ← numbered_at (codes " sync ") seek.1
  offset ← numbered_at (codes " ") period.1
  begins ← flag_at (codes " begins ") offset.1
  Some (target_line (record {
    device = device.0;
    latency = latency.0;
    retries = retries.0;
    disc = disc.0;
    pick = pick.0;
    seek = seek.0;
    period = period.0;
    offset = offset.0;
    begins = begins;
  }))

-- unit T U blocks N size B depth Q
unfoldable pub unit_at : List ℕ → Option Said
unit_at line = do
  target ← numbered_at (codes "unit ") line
  unit ← numbered_at (codes " ") target.1
  blocks ← numbered_at (codes " blocks ") unit.1
  size ← numbered_at (codes " size ") blocks.1
  depth ← numbered_at (codes " depth ") size.1
  done ← is_whole depth.1
  Some (unit_line (record { target = target.0; unit = unit.0; blocks = blocks.0; size = size.0; depth = depth.0 }))

-- fill T U LBA HEX
unfoldable pub fill_at : List ℕ → Option Said
fill_at line = do
  target ← numbered_at (codes "fill ") line
  unit ← numbered_at (codes " ") target.1
  lba ← numbered_at (codes " ") unit.1
  a ← after (codes " ") lba.1
  hex ← hex_digits_at a
  done ← is_whole hex.1
  Some (fill_line (record { target = target.0; unit = unit.0; lba = lba.0; bytes = bytes_of hex.0 }))

-- tape T U objects N size B depth Q
unfoldable pub tape_at : List ℕ → Option Said
tape_at line = do
  target ← numbered_at (codes "tape ") line
  unit ← numbered_at (codes " ") target.1
  objects ← numbered_at (codes " objects ") unit.1
  size ← numbered_at (codes " size ") objects.1
  depth ← numbered_at (codes " depth ") size.1
  done ← is_whole depth.1
  Some (tape_line (record { target = target.0; unit = unit.0; objects = objects.0; size = size.0; depth = depth.0 }))

-- load T U OBJECT
unfoldable pub load_at : List ℕ → Option Said
load_at line = do
  target ← numbered_at (codes "load ") line
  unit ← numbered_at (codes " ") target.1
  a ← after (codes " ") unit.1
  what ← object_at a
  Some (load_line (record { target = target.0; unit = unit.0; what = what }))

-- cmd I T U at NS TAG cdb HEX BYTES
unfoldable pub cmd_at : List ℕ → Option Said
cmd_at line = do
  host ← numbered_at (codes "cmd ") line
  target ← numbered_at (codes " ") host.1
  unit ← numbered_at (codes " ") target.1
  at ← numbered_at (codes " at ") unit.1
  a ← after (codes " ") at.1
  tag ← tag_at a
  b ← after (codes " cdb ") tag.1
  cdb ← hex_digits_at b
  c ← after (codes " ") cdb.1
  payload ← payload_at c
  Some (cmd_line (record {
    host = host.0;
    target = target.0;
    unit = unit.0;
    at = at.0;
    tag = tag.0;
    cdb = bytes_of cdb.0;
    payload = payload;
  }))

-- abort I T U at NS WHAT
unfoldable pub abort_at : List ℕ → Option Said
abort_at line = do
  host ← numbered_at (codes "abort ") line
  target ← numbered_at (codes " ") host.1
  unit ← numbered_at (codes " ") target.1
  at ← numbered_at (codes " at ") unit.1
  a ← after (codes " ") at.1
  what ← what_at a
  Some (abort_line (record { host = host.0; target = target.0; unit = unit.0; at = at.0; what = what }))

-- reset D at NS
unfoldable pub reset_at : List ℕ → Option Said
reset_at line = do
  device ← numbered_at (codes "reset ") line
  at ← numbered_at (codes " at ") device.1
  done ← is_whole at.1
  Some (reset_line (record { device = device.0; at = at.0 }))

-- fault at NS bit B
unfoldable pub fault_at : List ℕ → Option Said
fault_at line = do
  at ← numbered_at (codes "fault at ") line
  bit ← numbered_at (codes " bit ") at.1
  done ← is_whole bit.1
  Some (fault_line (record { at = at.0; bit = bit.0 }))

-- end
unfoldable pub end_at : List ℕ → Option Said
end_at line = exactly_at (codes "end") line >>= λ _. Some end_line

-- The lines that declare what is there.
abbrev pub declared_at : List ℕ → Option Said
declared_at line = or (scsi_at line) (or (initiator_at line) (or (target_at line) (or (unit_at line)
    (or (fill_at line) (or (tape_at line) (load_at line))))))

-- The lines that say what happens, and the last line.
abbrev pub happens_at : List ℕ → Option Said
happens_at line = or (cmd_at line) (or (abort_at line) (or (reset_at line) (or (fault_at line) (end_at line))))

-- What a line says by the forms of texts 1, 2 and 3. They differ in their first words, so at most one fits.
abbrev pub form_of : List ℕ → Option Said
form_of line = or (declared_at line) (happens_at line)
