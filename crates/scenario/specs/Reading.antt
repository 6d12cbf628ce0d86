-- What a text says, or its first line with a reason: the steps of reading.
use Rattle.std.specs.Prelude.{ℕ, ◌+◌, ◌-◌, ◌^◌, ◌≡◌, Bool, true, false, not, ◌&&◌, ◌||◌, List, [], ◌∷◌, ◌++◌, length}
use Rattle.std.specs.Prelude.{Option, Some, None, Result, Ok, Err, nat_lt, nat_le, ◌==◌, is_some, if◌then◌else◌}
use Rattle.std.specs.List.{list_all, list_any}
use Rattle.bus_base.specs.declared.events.AbortKind.{AbortKind}
use Rattle.bus_base.specs.declared.events.AbortKind.TheVariants as kills
use Rattle.cdb_codec.specs.Cdb.{group_len, is_len}
use Rattle.text_words.specs.Words.{Number}
use Rattle.text_words.specs.Lines.{Line, lines_of}
use Rattle.scenario.specs.declared.bounds.TheConstants.{LIMIT, TIME_LIMIT, LATENCY_LIMIT, OPEN_LIMIT, RETRY_LIMIT}
use Rattle.scenario.specs.declared.bounds.TheConstants.{LEAST_FACTOR, FACTOR_LIMIT, HOST_OFFSET_LIMIT}
use Rattle.scenario.specs.declared.bounds.TheConstants.{TARGET_OFFSET_LIMIT, TAG_LIMIT, LAG_LIMIT, SEEK_LIMIT}
use Rattle.scenario.specs.declared.bounds.TheConstants.{BURST_LIMIT, BLOCK_LIMIT, LEAST_SIZE, SIZE_LIMIT, DEPTH_LIMIT}
use Rattle.scenario.specs.declared.bounds.TheConstants.{COMMAND_LIMIT, NEED_LIMIT, NEEDS_LIMIT, ABORT_LIMIT}
use Rattle.scenario.specs.declared.bounds.TheConstants.{FAULT_LIMIT, OBJECT_LIMIT}
use Rattle.scenario.specs.declared.value.HostDef.{HostDef}
use Rattle.scenario.specs.declared.value.Policy.{Policy}
use Rattle.scenario.specs.declared.value.Policy.TheVariants as policies
use Rattle.scenario.specs.declared.value.TargetDef.{TargetDef}
use Rattle.scenario.specs.declared.value.UnitDef.{UnitDef}
use Rattle.scenario.specs.declared.value.FillDef.{FillDef}
use Rattle.scenario.specs.declared.value.TapeDef.{TapeDef}
use Rattle.scenario.specs.declared.value.Load.{Load}
use Rattle.scenario.specs.declared.value.Load.TheVariants as loads
use Rattle.scenario.specs.declared.value.LoadDef.{LoadDef}
use Rattle.scenario.specs.declared.value.Tag.{Tag}
use Rattle.scenario.specs.declared.value.Tag.TheVariants as tags
use Rattle.scenario.specs.declared.value.Payload.{Payload}
use Rattle.scenario.specs.declared.value.Payload.TheVariants as payloads
use Rattle.scenario.specs.declared.value.CmdDef.{CmdDef}
use Rattle.scenario.specs.declared.value.AbortDef.{AbortDef}
use Rattle.scenario.specs.declared.value.ResetDef.{ResetDef}
use Rattle.scenario.specs.declared.value.FaultDef.{FaultDef}
use Rattle.scenario.specs.declared.fault.Bad.{Bad}
use Rattle.scenario.specs.declared.fault.Bad.TheVariants as bads
use Rattle.scenario.specs.declared.fault.Refusal.{Refusal}
use Rattle.scenario.specs.declared.fault.Refusal.TheVariants as refusals
use Rattle.scenario.specs.declared.form.HostForm.{HostForm}
use Rattle.scenario.specs.declared.form.PolicyForm.{PolicyForm}
use Rattle.scenario.specs.declared.form.PolicyForm.TheVariants as policy_forms
use Rattle.scenario.specs.declared.form.TargetForm.{TargetForm}
use Rattle.scenario.specs.declared.form.UnitForm.{UnitForm}
use Rattle.scenario.specs.declared.form.TapeForm.{TapeForm}
use Rattle.scenario.specs.declared.form.TagForm.{TagForm}
use Rattle.scenario.specs.declared.form.TagForm.TheVariants as tag_forms
use Rattle.scenario.specs.declared.form.WhatForm.{WhatForm}
use Rattle.scenario.specs.declared.form.WhatForm.TheVariants as whats
use Rattle.scenario.specs.declared.form.AbortForm.{AbortForm}
use Rattle.scenario.specs.declared.form.ResetForm.{ResetForm}
use Rattle.scenario.specs.declared.form.FaultForm.{FaultForm}
use Rattle.scenario.specs.declared.kind.Kind.{Kind}
use Rattle.scenario.specs.declared.kind.Kind.TheVariants as kinds
use Rattle.scenario.specs.Value.{ScenarioValue, nothing_said}
use Rattle.scenario.specs.Lookups.{has_host, has_target, has_device, unit_of, tape_of, has_fill, loads_at}
use Rattle.scenario.specs.Needs.{need_of, sent_of}
use Rattle.scenario.specs.Parts.{PayloadSaid, no_bytes, these_bytes, bytes_from, ObjectSaid, block_object, mark_object}
use Rattle.scenario.specs.Forms.{Said, FillSaid, LoadSaid, CmdSaid, scsi_line, initiator_line, target_line, unit_line}
use Rattle.scenario.specs.Forms.{fill_line, tape_line, load_line, cmd_line, abort_line, reset_line, fault_line}
use Rattle.scenario.specs.Forms.{end_line, form_of}

-- The next step is taken only where this one has no reason.
infixl 10 ◌>>=◌
abbrev pub ◌>>=◌ : {A B : Type 0} → Result A ℕ → (A → Result B ℕ) → Result B ℕ
(Ok x) >>= f = f x
(Err r) >>= f = Err r

-- Why a function of the program refused is this reason; want of memory is free.
abbrev pub Refuses : {Y : Type 0} → Refusal → Result Y ℕ → Type 0
Refuses refusals.Memory read = Unit {0}
Refuses (refusals.Reason r) read = read ≡ Err r

-- What a function of the program gave, seen by `view`, is this; want of memory is free.
abbrev pub Gives : {X Y : Type 0} → (X → Y) → Result X Refusal → Result Y ℕ → Type 0
Gives view (Ok x) read = read ≡ Ok (view x)
Gives view (Err e) read = Refuses e read

-- A reason for what does not hold.
abbrev pub guard : ℕ → Bool → Result (Unit {0}) ℕ
guard reason true = Ok tt
guard reason false = Err reason

-- ---- Numbers and their limits: reason 4.

-- A number from `least` to `most`.
abbrev pub within : Number → ℕ → ℕ → Result ℕ ℕ
within None least most = Err 4
within (Some n) least most = if nat_le least n && nat_le n most then Ok n else Err 4

-- A device, or a unit: 0 to 7.
abbrev pub in_8 : Number → Result ℕ ℕ
in_8 number = within number 0 7

-- A time: up to 10^12 ns.
abbrev pub time_in : Number → Result ℕ ℕ
time_in number = within number 0 TIME_LIMIT

-- A transfer period factor: 0, or 25 to 255.
unfoldable pub period_in : Number → Result ℕ ℕ
period_in number = do
  n ← within number 0 FACTOR_LIMIT
  done ← guard 4 (n == 0 || nat_le LEAST_FACTOR n)
  Ok n

-- The sizes of a block: the powers of two from 16 to 2048.
abbrev pub is_size : ℕ → Bool
is_size n = list_any (λ size. size == n) (16 ∷ 32 ∷ 64 ∷ 128 ∷ 256 ∷ 512 ∷ 1024 ∷ 2048 ∷ [])

-- A block size.
unfoldable pub size_in : Number → Result ℕ ℕ
size_in number = do
  n ← within number LEAST_SIZE SIZE_LIMIT
  done ← guard 4 (is_size n)
  Ok n

-- A policy: its K is 1 to 65,536.
unfoldable pub policy_in : PolicyForm → Result Policy ℕ
policy_in policy_forms.Never = Ok policies.Never
policy_in policy_forms.Command = Ok policies.Command
policy_in (policy_forms.Burst k) = within k 1 BURST_LIMIT >>= λ n. Ok (policies.Burst n)
policy_in (policy_forms.NoSave k) = within k 1 BURST_LIMIT >>= λ n. Ok (policies.NoSave n)

-- A tag: 0 to 255.
unfoldable pub tag_in : TagForm → Result Tag ℕ
tag_in tag_forms.Untagged = Ok tags.Untagged
tag_in (tag_forms.Simple t) = within t 0 TAG_LIMIT >>= λ n. Ok (tags.Simple n)
tag_in (tag_forms.Ordered t) = within t 0 TAG_LIMIT >>= λ n. Ok (tags.Ordered n)
tag_in (tag_forms.Head t) = within t 0 TAG_LIMIT >>= λ n. Ok (tags.Head n)

-- What is aborted: a tag is 0 to 255.
unfoldable pub what_in : WhatForm → Result AbortKind ℕ
what_in whats.All = Ok kills.All
what_in (whats.Tag t) = within t 0 TAG_LIMIT >>= λ n. Ok (kills.Tag n)
what_in whats.Queue = Ok kills.WholeQueue
what_in whats.Device = Ok kills.Device

-- A command descriptor block is of group 0 or 1 and has its group's length.
abbrev pub is_block : List ℕ → Bool
is_block [] = false
is_block (b ∷ bytes) = is_len (group_len b) (length (b ∷ bytes))

-- What YN says; where the text has none, this.
abbrev pub answer_or : Bool → Option Bool → Bool
answer_or otherwise None = otherwise
answer_or otherwise (Some answer) = answer

-- ---- What each line adds, its reasons in rising order.

-- An initiator. In text 1 it offers.
unfoldable pub host_def : ScenarioValue → HostForm → Result HostDef ℕ
host_def s f = do
  dev ← in_8 f.device
  latency ← within f.latency 0 LATENCY_LIMIT
  most ← within f.«open» 1 OPEN_LIMIT
  retries ← within f.retries 0 RETRY_LIMIT
  period ← period_in f.period
  offset ← within f.offset 0 HOST_OFFSET_LIMIT
  lag ← within f.lag 0 LAG_LIMIT
  new ← guard 5 (not (has_device s dev))
  Ok (record {
    dev = dev;
    latency = latency;
    most = most;
    retries = retries;
    period = period;
    offset = offset;
    lag = lag;
    offers = answer_or true f.offers;
  })

-- A target. In text 1 it does not begin.
unfoldable pub target_def : ScenarioValue → TargetForm → Result TargetDef ℕ
target_def s f = do
  dev ← in_8 f.device
  latency ← within f.latency 0 LATENCY_LIMIT
  retries ← within f.retries 0 RETRY_LIMIT
  disc ← policy_in f.disc
  seek ← within f.seek 0 SEEK_LIMIT
  period ← period_in f.period
  offset ← within f.offset 0 TARGET_OFFSET_LIMIT
  new ← guard 5 (not (has_device s dev))
  Ok (record {
    dev = dev;
    latency = latency;
    retries = retries;
    disc = disc;
    pick = f.pick;
    seek = seek;
    period = period;
    offset = offset;
    begins = answer_or false f.begins;
  })

-- A unit of a target.
unfoldable pub unit_def : ScenarioValue → UnitForm → Result UnitDef ℕ
unit_def s f = do
  target ← in_8 f.target
  unit ← in_8 f.unit
  blocks ← within f.blocks 1 BLOCK_LIMIT
  size ← size_in f.size
  depth ← within f.depth 1 DEPTH_LIMIT
  new ← guard 5 (not (is_some (unit_of s target unit)))
  known ← guard 6 (has_target s target)
  Ok (record { target = target; unit = unit; blocks = blocks; size = size; depth = depth })

-- The unit or the tape, which must be declared.
abbrev pub found : {A : Type 0} → Option A → Result A ℕ
found None = Err 6
found (Some u) = Ok u

-- The bytes are one block of the unit, and the block is one of its blocks. Block numbers have 32 bits.
abbrev pub is_block_of : UnitDef → ℕ → List ℕ → Bool
is_block_of u lba bytes = (nat_lt lba u.blocks && nat_lt lba (2 ^ 32)) && length bytes == u.size

-- What a block holds.
unfoldable pub fill_def : ScenarioValue → FillSaid → Result FillDef ℕ
fill_def s f = do
  target ← in_8 f.target
  unit ← in_8 f.unit
  lba ← within f.lba 0 (2 ^ 64 - 1)
  new ← guard 5 (not (has_fill s.fills target unit lba))
  def ← found (unit_of s target unit)
  done ← guard 7 (is_block_of def lba f.bytes)
  Ok (record { target = target; unit = unit; lba = lba; bytes = f.bytes })

-- A tape of a target.
unfoldable pub tape_def : ScenarioValue → TapeForm → Result TapeDef ℕ
tape_def s f = do
  target ← in_8 f.target
  unit ← in_8 f.unit
  objects ← within f.objects 1 OBJECT_LIMIT
  size ← size_in f.size
  depth ← within f.depth 1 DEPTH_LIMIT
  new ← guard 5 (not (is_some (unit_of s target unit)))
  known ← guard 6 (has_target s target)
  Ok (record { target = target; unit = unit; objects = objects; size = size; depth = depth })

-- What is loaded.
abbrev pub load_of : ObjectSaid → Load
load_of (block_object bytes) = loads.Block bytes
load_of mark_object = loads.Mark

-- The object is a filemark, or one block of the tape.
abbrev pub is_object_of : TapeDef → Load → Bool
is_object_of t (loads.Block bytes) = length bytes == t.size
is_object_of t loads.Mark = true

-- The object fits on the tape, on which this many stand.
abbrev pub fits_tape : TapeDef → ℕ → Load → Bool
fits_tape t n what = is_object_of t what && nat_lt n t.objects

-- One object more on a tape.
unfoldable pub load_def : ScenarioValue → LoadSaid → Result LoadDef ℕ
load_def s f = do
  target ← in_8 f.target
  unit ← in_8 f.unit
  tape ← found (tape_of s target unit)
  done ← guard 7 (fits_tape tape (loads_at s.loads target unit) (load_of f.what))
  Ok (record { target = target; unit = unit; what = load_of f.what })

-- The initiator is one, and the target, which need not be declared, is none.
abbrev pub are_ends : ScenarioValue → ℕ → ℕ → Bool
are_ends s host target = has_host s host && not (has_host s target)

-- What is sent.
abbrev pub payload_of : PayloadSaid → Payload
payload_of no_bytes = payloads.Nothing
payload_of (these_bytes bytes) = payloads.Hex bytes
payload_of (bytes_from b) = payloads.From b

-- A command, before what it sends and needs is looked at.
unfoldable pub cmd_def : ScenarioValue → CmdSaid → Result CmdDef ℕ
cmd_def s c = do
  host ← in_8 c.host
  target ← in_8 c.target
  unit ← in_8 c.unit
  at ← time_in c.at
  tag ← tag_in c.tag
  block ← guard 4 (is_block c.cdb)
  known ← guard 6 (are_ends s host target)
  Ok (record {
    host = host;
    target = target;
    unit = unit;
    at = at;
    tag = tag;
    cdb = c.cdb;
    payload = payload_of c.payload;
  })

-- Where n bytes are to be sent, `out` stands exactly where n is above 0, and bytes that are told are n.
abbrev pub is_payload : ℕ → Payload → Bool
is_payload n payloads.Nothing = n == 0
is_payload n (payloads.Hex bytes) = nat_lt 0 n && length bytes == n
is_payload n (payloads.From b) = nat_lt 0 n

-- There is room for one command more, which needs n bytes, after some that need `needs` bytes.
abbrev pub has_room : ScenarioValue → ℕ → ℕ → Bool
has_room s needs n = nat_lt (length s.commands) COMMAND_LIMIT && (nat_le n NEED_LIMIT && nat_le (needs + n) NEEDS_LIMIT)

-- A command of which all is right; the commands before need `needs` bytes.
unfoldable pub full_cmd_def : ScenarioValue → ℕ → CmdSaid → Result CmdDef ℕ
full_cmd_def s needs c = do
  def ← cmd_def s c
  fits ← guard 7 (is_payload (sent_of s def) def.payload)
  room ← guard 8 (has_room s needs (need_of s def))
  Ok def

-- There is room for an abort or a reset more.
abbrev pub has_abort_room : ScenarioValue → Bool
has_abort_room s = nat_lt (length s.aborts + length s.resets) ABORT_LIMIT

-- An abort message.
unfoldable pub abort_def : ScenarioValue → AbortForm → Result AbortDef ℕ
abort_def s f = do
  host ← in_8 f.host
  target ← in_8 f.target
  unit ← in_8 f.unit
  at ← time_in f.at
  what ← what_in f.what
  known ← guard 6 (are_ends s host target)
  room ← guard 8 (has_abort_room s)
  Ok (record { host = host; target = target; unit = unit; at = at; what = what })

-- A reset.
unfoldable pub reset_def : ScenarioValue → ResetForm → Result ResetDef ℕ
reset_def s f = do
  dev ← in_8 f.device
  at ← time_in f.at
  known ← guard 6 (has_device s dev)
  room ← guard 8 (has_abort_room s)
  Ok (record { dev = dev; at = at })

-- A fault.
unfoldable pub fault_def : ScenarioValue → FaultForm → Result FaultDef ℕ
fault_def s f = do
  at ← time_in f.at
  bit ← within f.bit 0 8
  room ← guard 8 (nat_lt (length s.faults) FAULT_LIMIT)
  Ok (record { at = at; bit = bit })

-- ---- The order of kinds.

-- What was read so far: the scenario, the kind of the last line that is not skipped, and how many
-- bytes the commands need.
pub record Progress : Type 0 where
  pub scenario : ScenarioValue
  pub last : Kind
  pub needs : ℕ

-- The place of a kind.
abbrev pub rank : Kind → ℕ
rank kinds.Nothing = 0
rank kinds.Scsi = 1
rank kinds.Initiator = 2
rank kinds.Target = 3
rank kinds.Unit = 4
rank kinds.Fill = 5
rank kinds.Tape = 6
rank kinds.Load = 7
rank kinds.Cmd = 8
rank kinds.Abort = 9
rank kinds.Reset = 10
rank kinds.Fault = 11
rank kinds.End = 12

-- The kind of a line.
abbrev pub kind_of : Said → Kind
kind_of (scsi_line v) = kinds.Scsi
kind_of (initiator_line f) = kinds.Initiator
kind_of (target_line f) = kinds.Target
kind_of (unit_line f) = kinds.Unit
kind_of (fill_line f) = kinds.Fill
kind_of (tape_line f) = kinds.Tape
kind_of (load_line f) = kinds.Load
kind_of (cmd_line f) = kinds.Cmd
kind_of (abort_line f) = kinds.Abort
kind_of (reset_line f) = kinds.Reset
kind_of (fault_line f) = kinds.Fault
kind_of end_line = kinds.End

-- The first line is a `scsi` line; then the kinds stand in their order, `scsi` and `end` once, and
-- nothing after `end`.
abbrev pub in_order : ℕ → ℕ → Bool
in_order last next = if last == 0 then next == 1 else (nat_lt 1 next && nat_le last next) && nat_lt last 12

-- The last line was `end`.
abbrev pub is_end : Kind → Bool
is_end kind = rank kind == 12

-- The end of an initiator's or target's line is of this version: texts 2 and 3 have YN there, text 1 nothing.
-- Before the first line no version is known, and each is right.
abbrev pub fits_flag : ℕ → Option Bool → Bool
fits_flag version None = nat_lt version 2
fits_flag version (Some answer) = not (version == 1)

-- Tapes and loads stand in text 3 alone.
abbrev pub has_tapes : ℕ → Bool
has_tapes version = version == 0 || version == 3

-- The line is of this version.
abbrev pub fits_version : ℕ → Said → Bool
fits_version version (scsi_line v) = version == 0 || version == v
fits_version version (initiator_line f) = fits_flag version f.offers
fits_version version (target_line f) = fits_flag version f.begins
fits_version version (unit_line f) = true
fits_version version (fill_line f) = true
fits_version version (tape_line f) = has_tapes version
fits_version version (load_line f) = has_tapes version
fits_version version (cmd_line f) = true
fits_version version (abort_line f) = true
fits_version version (reset_line f) = true
fits_version version (fault_line f) = true
fits_version version end_line = true

-- ---- One line, after those before it.

-- The scenario so far with what the line says.
abbrev pub with_scenario : Progress → ScenarioValue → Progress
with_scenario d s = record d { scenario = s }

unfoldable pub added : Progress → Said → Result Progress ℕ
added d (scsi_line v) = Ok (with_scenario d (record d.scenario { version = v }))
added d (initiator_line f) =
    host_def d.scenario f >>= λ def. Ok (with_scenario d (record d.scenario { hosts = d.scenario.hosts ++ def ∷ [] }))
added d (target_line f) = target_def d.scenario f
    >>= λ def. Ok (with_scenario d (record d.scenario { targets = d.scenario.targets ++ def ∷ [] }))
added d (unit_line f) =
    unit_def d.scenario f >>= λ def. Ok (with_scenario d (record d.scenario { units = d.scenario.units ++ def ∷ [] }))
added d (fill_line f) =
    fill_def d.scenario f >>= λ def. Ok (with_scenario d (record d.scenario { fills = d.scenario.fills ++ def ∷ [] }))
added d (tape_line f) =
    tape_def d.scenario f >>= λ def. Ok (with_scenario d (record d.scenario { tapes = d.scenario.tapes ++ def ∷ [] }))
added d (load_line f) =
    load_def d.scenario f >>= λ def. Ok (with_scenario d (record d.scenario { loads = d.scenario.loads ++ def ∷ [] }))
added d (cmd_line f) = full_cmd_def d.scenario d.needs f >>= λ def. Ok (record d {
  scenario = record d.scenario { commands = d.scenario.commands ++ def ∷ [] };
  needs = d.needs + need_of d.scenario def;
})
added d (abort_line f) = abort_def d.scenario f
    >>= λ def. Ok (with_scenario d (record d.scenario { aborts = d.scenario.aborts ++ def ∷ [] }))
added d (reset_line f) = reset_def d.scenario f
    >>= λ def. Ok (with_scenario d (record d.scenario { resets = d.scenario.resets ++ def ∷ [] }))
added d (fault_line f) = fault_def d.scenario f
    >>= λ def. Ok (with_scenario d (record d.scenario { faults = d.scenario.faults ++ def ∷ [] }))
added d end_line = Ok d

-- What was read with a line more that has a form.
unfoldable pub said_after : Progress → Said → Result Progress ℕ
said_after d said = do
  version ← guard 2 (fits_version d.scenario.version said)
  order ← guard 3 (in_order (rank d.last) (rank (kind_of said)))
  e ← added d said
  Ok (record e { last = kind_of said })

-- The bytes of a text: 20 to 7e.
abbrev pub is_printable : ℕ → Bool
is_printable b = nat_le 0x20 b && nat_le b 0x7e

-- A line that says nothing: empty, or it begins with `#`.
abbrev pub is_skipped : List ℕ → Bool
is_skipped [] = true
is_skipped (b ∷ bytes) = b == 35

-- The line has a form.
abbrev pub formed : Option Said → Result Said ℕ
formed None = Err 2
formed (Some s) = Ok s

-- What was read with a line more, or the lowest reason of that line.
unfoldable pub line_after : Progress → Line → Result Progress ℕ
line_after d line = do
  printed ← guard 1 (list_all is_printable line.text)
  ended ← guard 2 line.ended
  if is_skipped line.text then Ok d else (formed (form_of line.text) >>= λ s. said_after d s)

-- ---- The text.

-- Reading goes on where a line has no reason, and else tells its number; n lines stand before.
abbrev pub and_then : ℕ → Result Progress ℕ → (Progress → Result ScenarioValue (ℕ × ℕ)) → Result ScenarioValue (ℕ × ℕ)
and_then n (Ok d) go_on = go_on d
and_then n (Err reason) go_on = Err (n + 1, reason)

-- What the rest of a text says after n lines, or its first line with a reason and that reason. A text
-- that is over before `end` has reason 2 in the line after its last.
unfoldable pub read_from : Progress → ℕ → List Line → Result ScenarioValue (ℕ × ℕ)
read_from d n [] = if is_end d.last then Ok d.scenario else Err (n + 1, 2)
read_from d n (line ∷ lines) = and_then n (line_after d line) (λ e. read_from e (n + 1) lines)

-- Nothing was read.
abbrev pub nothing : Progress
nothing = record { scenario = nothing_said; last = kinds.Nothing; needs = 0 }

-- The scenario that a text says, or the first line with a reason and its lowest reason; line 0 and
-- reason 9 where it has more than 4,194,304 bytes.
abbrev pub scenario_of : List ℕ → Result ScenarioValue (ℕ × ℕ)
scenario_of bytes = if nat_lt LIMIT (length bytes) then Err (0, 9) else read_from nothing 0 (lines_of bytes)

-- What the program read is this; want of memory is free.
abbrev pub Answers : Result ScenarioValue Bad → Result ScenarioValue (ℕ × ℕ) → Type 0
Answers (Ok s) read = read ≡ Ok s
Answers (Err (bads.At line reason)) read = read ≡ Err (line, reason)
Answers (Err bads.NoMemory) read = Unit {0}

-- What the program tells of a line that it refuses.
abbrev pub told : Refusal → ℕ → Bad
told refusals.Memory line = bads.NoMemory
told (refusals.Reason r) line = bads.At line r
