-- The one spelling of a scenario, and the rules that a scenario obeys.
use Rattle.std.specs.Prelude.{◌≡◌, ℕ, ◌<◌, ◌≤◌, Bool, true, false, List, [], ◌∷◌, ◌++◌, length, map, Option, Some, None}
use Rattle.std.specs.Prelude.{Result, Ok, codes, ◌==◌, ◌||◌, if◌then◌else◌}
use Rattle.std.specs.List.{flat_map, AllByRecursion}
use Rattle.bus_base.specs.declared.events.Pick.{Pick}
use Rattle.bus_base.specs.declared.events.Pick.TheVariants as picks
use Rattle.bus_base.specs.declared.events.AbortKind.{AbortKind}
use Rattle.bus_base.specs.declared.events.AbortKind.TheVariants as kills
use Rattle.text_words.specs.Words.{Number}
use Rattle.text_words.specs.Spelling.{byte_text, hex_text, number_text, AreBytes}
use Rattle.scenario.specs.declared.bounds.TheConstants.{LIMIT}
use Rattle.scenario.specs.declared.value.HostDef.{HostDef}
use Rattle.scenario.specs.declared.value.Policy.{Policy}
use Rattle.scenario.specs.declared.value.Policy.TheVariants as policies
use Rattle.scenario.specs.declared.value.TargetDef.{TargetDef}
use Rattle.scenario.specs.declared.value.UnitDef.{UnitDef}
use Rattle.scenario.specs.declared.value.FillDef.{FillDef}
use Rattle.scenario.specs.declared.value.TapeDef.{TapeDef}
use Rattle.scenario.specs.declared.value.Load.{Load}
use Rattle.scenario.specs.declared.value.Load.TheVariants as loads
use Rattle.scenario.specs.declared.value.LoadDef.{LoadDef}
use Rattle.scenario.specs.declared.value.Tag.{Tag}
use Rattle.scenario.specs.declared.value.Tag.TheVariants as tags
use Rattle.scenario.specs.declared.value.Payload.{Payload}
use Rattle.scenario.specs.declared.value.Payload.TheVariants as payloads
use Rattle.scenario.specs.declared.value.CmdDef.{CmdDef}
use Rattle.scenario.specs.declared.value.AbortDef.{AbortDef}
use Rattle.scenario.specs.declared.value.ResetDef.{ResetDef}
use Rattle.scenario.specs.declared.value.FaultDef.{FaultDef}
use Rattle.scenario.specs.declared.form.HostForm.{HostForm}
use Rattle.scenario.specs.declared.form.PolicyForm.{PolicyForm}
use Rattle.scenario.specs.declared.form.PolicyForm.TheVariants as policy_forms
use Rattle.scenario.specs.declared.form.TargetForm.{TargetForm}
use Rattle.scenario.specs.declared.form.UnitForm.{UnitForm}
use Rattle.scenario.specs.declared.form.TapeForm.{TapeForm}
use Rattle.scenario.specs.declared.form.TagForm.{TagForm}
use Rattle.scenario.specs.declared.form.TagForm.TheVariants as tag_forms
use Rattle.scenario.specs.declared.form.WhatForm.{WhatForm}
use Rattle.scenario.specs.declared.form.WhatForm.TheVariants as whats
use Rattle.scenario.specs.declared.form.AbortForm.{AbortForm}
use Rattle.scenario.specs.declared.form.ResetForm.{ResetForm}
use Rattle.scenario.specs.declared.form.FaultForm.{FaultForm}
use Rattle.scenario.specs.Value.{ScenarioValue}
use Rattle.scenario.specs.Parts.{PayloadSaid, no_bytes, these_bytes, bytes_from, ObjectSaid, block_object, mark_object}
use Rattle.scenario.specs.Forms.{Said, FillSaid, LoadSaid, CmdSaid, scsi_line, initiator_line, target_line, unit_line}
use Rattle.scenario.specs.Forms.{fill_line, tape_line, load_line, cmd_line, abort_line, reset_line, fault_line}
use Rattle.scenario.specs.Forms.{end_line}
use Rattle.scenario.specs.Reading.{Progress, ◌>>=◌, said_after, nothing}

-- ---- The spelling of a line.

-- A text, and a number after it.
abbrev pub numbered : List ℕ → Number → List ℕ
numbered text n = text ++ number_text n

-- YN.
abbrev pub yes_no_text : Bool → List ℕ
yes_no_text true = codes "yes"
yes_no_text false = codes "no"

-- The end of an initiator's or target's line.
abbrev pub flag_text : List ℕ → Option Bool → List ℕ
flag_text text None = []
flag_text text (Some answer) = text ++ yes_no_text answer

-- The line that tells the version.
abbrev pub scsi_text : ℕ → List ℕ
scsi_text version =
    if version == 3 then codes "scsi 3" else (if version == 2 then codes "scsi 2" else codes "scsi 1")

-- POLICY.
abbrev pub policy_text : PolicyForm → List ℕ
policy_text policy_forms.Never = codes "never"
policy_text policy_forms.Command = codes "command"
policy_text (policy_forms.Burst k) = numbered (codes "burst ") k
policy_text (policy_forms.NoSave k) = numbered (codes "nosave ") k

-- PICK.
abbrev pub pick_text : Pick → List ℕ
pick_text picks.First = codes "first"
pick_text picks.Last = codes "last"

-- TAG.
abbrev pub tag_text : TagForm → List ℕ
tag_text tag_forms.Untagged = codes "untagged"
tag_text (tag_forms.Simple n) = numbered (codes "simple ") n
tag_text (tag_forms.Ordered n) = numbered (codes "ordered ") n
tag_text (tag_forms.Head n) = numbered (codes "head ") n

-- OBJECT.
abbrev pub object_text : ObjectSaid → List ℕ
object_text (block_object bytes) = hex_text bytes
object_text mark_object = codes "mark"

-- BYTES.
abbrev pub payload_text : PayloadSaid → List ℕ
payload_text no_bytes = codes "none"
payload_text (these_bytes bytes) = codes "out hex " ++ hex_text bytes
payload_text (bytes_from b) = codes "out from " ++ byte_text b

-- WHAT.
abbrev pub what_text : WhatForm → List ℕ
what_text whats.All = codes "all"
what_text (whats.Tag n) = numbered (codes "tag ") n
what_text whats.Queue = codes "queue"
what_text whats.Device = codes "device"

-- The line of an initiator, from `sync` on.
unfoldable pub host_sync_text : HostForm → List ℕ
host_sync_text f = numbered (codes " sync ") f.period
    ++ (numbered (codes " ") f.offset ++ (numbered (codes " lag ") f.lag ++ flag_text (codes " offers ") f.offers))

-- The line of an initiator.
unfoldable pub initiator_text : HostForm → List ℕ
initiator_text f = numbered (codes "initiator ") f.device ++ (numbered (codes " latency ") f.latency
    ++ (numbered (codes " open ") f.«open» ++ (numbered (codes " retries ") f.retries ++ host_sync_text f)))

-- The line of a target, from `seek` on.
unfoldable pub target_seek_text : TargetForm → List ℕ
target_seek_text f = numbered (codes " seek ") f.seek
    ++ (numbered (codes " sync ") f.period ++ (numbered (codes " ") f.offset ++ flag_text (codes " begins ") f.begins))

-- The line of a target, from `disc` on.
unfoldable pub target_disc_text : TargetForm → List ℕ
target_disc_text f =
    codes " disc " ++ (policy_text f.disc ++ (codes " pick " ++ (pick_text f.pick ++ target_seek_text f)))

-- The line of a target.
unfoldable pub target_text : TargetForm → List ℕ
target_text f = numbered (codes "target ") f.device
    ++ (numbered (codes " latency ") f.latency ++ (numbered (codes " retries ") f.retries ++ target_disc_text f))

-- The line of a unit.
unfoldable pub unit_text : UnitForm → List ℕ
unit_text f = numbered (codes "unit ") f.target ++ (numbered (codes " ") f.unit ++ (numbered (codes " blocks ") f.blocks
    ++ (numbered (codes " size ") f.size ++ numbered (codes " depth ") f.depth)))

-- The line of a fill.
unfoldable pub fill_text : FillSaid → List ℕ
fill_text f = numbered (codes "fill ") f.target
    ++ (numbered (codes " ") f.unit ++ (numbered (codes " ") f.lba ++ (codes " " ++ hex_text f.bytes)))

-- The line of a tape.
unfoldable pub tape_text : TapeForm → List ℕ
tape_text f = numbered (codes "tape ") f.target
    ++ (numbered (codes " ") f.unit ++ (numbered (codes " objects ") f.objects
    ++ (numbered (codes " size ") f.size ++ numbered (codes " depth ") f.depth)))

-- The line of a load.
unfoldable pub load_text : LoadSaid → List ℕ
load_text f =
    numbered (codes "load ") f.target ++ (numbered (codes " ") f.unit ++ (codes " " ++ object_text f.what))

-- The line of a command, from its tag on.
unfoldable pub cmd_tag_text : CmdSaid → List ℕ
cmd_tag_text c =
    codes " " ++ (tag_text c.tag ++ (codes " cdb " ++ (hex_text c.cdb ++ (codes " " ++ payload_text c.payload))))

-- The line of a command.
unfoldable pub cmd_text : CmdSaid → List ℕ
cmd_text c = numbered (codes "cmd ") c.host ++ (numbered (codes " ") c.target
    ++ (numbered (codes " ") c.unit ++ (numbered (codes " at ") c.at ++ cmd_tag_text c)))

-- The line of an abort.
unfoldable pub abort_text : AbortForm → List ℕ
abort_text f = numbered (codes "abort ") f.host ++ (numbered (codes " ") f.target
    ++ (numbered (codes " ") f.unit ++ (numbered (codes " at ") f.at ++ (codes " " ++ what_text f.what))))

-- The line of a reset.
unfoldable pub reset_text : ResetForm → List ℕ
reset_text f = numbered (codes "reset ") f.device ++ numbered (codes " at ") f.at

-- The line of a fault.
unfoldable pub fault_text : FaultForm → List ℕ
fault_text f = numbered (codes "fault at ") f.at ++ numbered (codes " bit ") f.bit

-- The line that says this, without its line feed.
abbrev pub said_text : Said → List ℕ
said_text (scsi_line v) = scsi_text v
said_text (initiator_line f) = initiator_text f
said_text (target_line f) = target_text f
said_text (unit_line f) = unit_text f
said_text (fill_line f) = fill_text f
said_text (tape_line f) = tape_text f
said_text (load_line f) = load_text f
said_text (cmd_line f) = cmd_text f
said_text (abort_line f) = abort_text f
said_text (reset_line f) = reset_text f
said_text (fault_line f) = fault_text f
said_text end_line = codes "end"

-- The line that says this, with its line feed.
abbrev pub said_line : Said → List ℕ
said_line x = said_text x ++ 10 ∷ []

-- ---- What the lines of a scenario say.

-- YN, which text 1 has not.
abbrev pub said_flag : ℕ → Bool → Option Bool
said_flag version answer = if version == 1 then None else Some answer

-- An initiator.
abbrev pub host_form : ℕ → HostDef → HostForm
host_form version h = record {
  device = Some h.dev;
  latency = Some h.latency;
  «open» = Some h.most;
  retries = Some h.retries;
  period = Some h.period;
  offset = Some h.offset;
  lag = Some h.lag;
  offers = said_flag version h.offers;
}

abbrev pub said_host : ℕ → HostDef → Said
said_host version h = initiator_line (host_form version h)

-- A policy.
abbrev pub said_policy : Policy → PolicyForm
said_policy policies.Never = policy_forms.Never
said_policy policies.Command = policy_forms.Command
said_policy (policies.Burst k) = policy_forms.Burst (Some k)
said_policy (policies.NoSave k) = policy_forms.NoSave (Some k)

-- A target.
abbrev pub target_form : ℕ → TargetDef → TargetForm
target_form version t = record {
  device = Some t.dev;
  latency = Some t.latency;
  retries = Some t.retries;
  disc = said_policy t.disc;
  pick = t.pick;
  seek = Some t.seek;
  period = Some t.period;
  offset = Some t.offset;
  begins = said_flag version t.begins;
}

abbrev pub said_target : ℕ → TargetDef → Said
said_target version t = target_line (target_form version t)

-- A unit.
abbrev pub said_unit : UnitDef → Said
said_unit u = unit_line (record {
  target = Some u.target;
  unit = Some u.unit;
  blocks = Some u.blocks;
  size = Some u.size;
  depth = Some u.depth;
})

-- A fill.
abbrev pub said_fill : FillDef → Said
said_fill f = fill_line (record { target = Some f.target; unit = Some f.unit; lba = Some f.lba; bytes = f.bytes })

-- A tape.
abbrev pub said_tape : TapeDef → Said
said_tape t = tape_line (record {
  target = Some t.target;
  unit = Some t.unit;
  objects = Some t.objects;
  size = Some t.size;
  depth = Some t.depth;
})

-- What is loaded.
abbrev pub said_object : Load → ObjectSaid
said_object (loads.Block bytes) = block_object bytes
said_object loads.Mark = mark_object

-- A load.
abbrev pub load_form : LoadDef → LoadSaid
load_form l = record { target = Some l.target; unit = Some l.unit; what = said_object l.what }

abbrev pub said_load : LoadDef → Said
said_load l = load_line (load_form l)

-- A tag.
abbrev pub said_tag : Tag → TagForm
said_tag tags.Untagged = tag_forms.Untagged
said_tag (tags.Simple n) = tag_forms.Simple (Some n)
said_tag (tags.Ordered n) = tag_forms.Ordered (Some n)
said_tag (tags.Head n) = tag_forms.Head (Some n)

-- What is sent.
abbrev pub said_payload : Payload → PayloadSaid
said_payload payloads.Nothing = no_bytes
said_payload (payloads.Hex bytes) = these_bytes bytes
said_payload (payloads.From b) = bytes_from b

-- A command.
abbrev pub cmd_form : CmdDef → CmdSaid
cmd_form c = record {
  host = Some c.host;
  target = Some c.target;
  unit = Some c.unit;
  at = Some c.at;
  tag = said_tag c.tag;
  cdb = c.cdb;
  payload = said_payload c.payload;
}

abbrev pub said_cmd : CmdDef → Said
said_cmd c = cmd_line (cmd_form c)

-- What is aborted.
abbrev pub said_what : AbortKind → WhatForm
said_what kills.All = whats.All
said_what (kills.Tag n) = whats.Tag (Some n)
said_what kills.WholeQueue = whats.Queue
said_what kills.Device = whats.Device

-- An abort message.
abbrev pub said_abort : AbortDef → Said
said_abort a = abort_line
    (record { host = Some a.host; target = Some a.target; unit = Some a.unit; at = Some a.at; what = said_what a.what })

-- A reset.
abbrev pub said_reset : ResetDef → Said
said_reset r = reset_line (record { device = Some r.dev; at = Some r.at })

-- A fault.
abbrev pub said_fault : FaultDef → Said
said_fault f = fault_line (record { at = Some f.at; bit = Some f.bit })

-- What the lines that say what happens say, in their order.
abbrev pub events_of : ScenarioValue → List Said
events_of s =
    map said_cmd s.commands ++ (map said_abort s.aborts ++ (map said_reset s.resets ++ map said_fault s.faults))

-- What the lines between the first and the last say, in their order.
abbrev pub body_of : ScenarioValue → List Said
body_of s = map (said_host s.version) s.hosts
    ++ (map (said_target s.version) s.targets ++ (map said_unit s.units ++ (map said_fill s.fills
    ++ (map said_tape s.tapes ++ (map said_load s.loads ++ events_of s)))))

-- What the lines of a scenario say.
abbrev pub saids : ScenarioValue → List Said
saids s = scsi_line s.version ∷ (body_of s ++ end_line ∷ [])

-- The text of a scenario: its lines in their order, none of them skipped.
abbrev pub text_of : ScenarioValue → List ℕ
text_of s = flat_map said_line (saids s)

-- ---- The rules.

-- What was read after lines that say this.
abbrev pub built : Progress → List Said → Result Progress ℕ
built d [] = Ok d
built d (x ∷ xs) = said_after d x >>= λ e. built e xs

-- What lines say tells this scenario, with `end` as its last line.
abbrev pub told_scenario : Result Progress ℕ → Result ScenarioValue ℕ
told_scenario read = read >>= λ d. Ok d.scenario

-- HEX: bytes, one or more.
abbrev pub IsHex : List ℕ → Type 0
IsHex bytes = AreBytes bytes × (0 < length bytes)

-- What is loaded can be told.
abbrev pub IsHexLoad : Load → Type 0
IsHexLoad (loads.Block bytes) = IsHex bytes
IsHexLoad loads.Mark = Unit {0}

-- What is sent can be told.
abbrev pub IsHexPayload : Payload → Type 0
IsHexPayload payloads.Nothing = Unit {0}
IsHexPayload (payloads.Hex bytes) = IsHex bytes
IsHexPayload (payloads.From b) = b < 256

-- The scenario obeys the rules of its text: its version is 1, 2 or 3, none of its lines has a reason, and together
-- they say it again; its bytes are bytes, and its text is within the limit. So it is read and printed.
pub record Obeys (s : ScenarioValue) : Type 0 where
  pub version : (s.version == 1 || (s.version == 2 || s.version == 3)) ≡ true
  pub lawful : told_scenario (built nothing (saids s)) ≡ Ok s
  pub fills : AllByRecursion (λ f. IsHex f.bytes) s.fills
  pub loads : AllByRecursion (λ l. IsHexLoad l.what) s.loads
  pub commands : AllByRecursion (λ c. IsHex c.cdb × IsHexPayload c.payload) s.commands
  pub limit : length (text_of s) ≤ LIMIT
