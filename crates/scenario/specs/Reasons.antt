-- The reasons, each a test of its own; the lowest that holds is told.
use Rattle.std.specs.Prelude.{ℕ, ◌-◌, ◌^◌, Bool, true, false, not, ◌&&◌, ◌||◌, List, length, Option, Some, None, Result}
use Rattle.std.specs.Prelude.{Ok, Err, nat_lt, nat_le, ◌==◌, is_some, is_none, if◌then◌else◌}
use Rattle.std.specs.List.{list_all}
use Rattle.text_words.specs.Words.{Number}
use Rattle.text_words.specs.Lines.{Line}
use Rattle.scenario.specs.declared.bounds.TheConstants.{TIME_LIMIT, LATENCY_LIMIT, OPEN_LIMIT, RETRY_LIMIT}
use Rattle.scenario.specs.declared.bounds.TheConstants.{LEAST_FACTOR, FACTOR_LIMIT, HOST_OFFSET_LIMIT}
use Rattle.scenario.specs.declared.bounds.TheConstants.{TARGET_OFFSET_LIMIT, TAG_LIMIT, LAG_LIMIT, SEEK_LIMIT}
use Rattle.scenario.specs.declared.bounds.TheConstants.{BURST_LIMIT, BLOCK_LIMIT, LEAST_SIZE, SIZE_LIMIT, DEPTH_LIMIT}
use Rattle.scenario.specs.declared.bounds.TheConstants.{FAULT_LIMIT, OBJECT_LIMIT}
use Rattle.scenario.specs.declared.value.Tag.{Tag}
use Rattle.scenario.specs.declared.value.Tag.TheVariants as tags
use Rattle.scenario.specs.declared.value.UnitDef.{UnitDef}
use Rattle.scenario.specs.declared.value.TapeDef.{TapeDef}
use Rattle.scenario.specs.declared.value.Load.{Load}
use Rattle.scenario.specs.declared.value.CmdDef.{CmdDef}
use Rattle.scenario.specs.declared.form.PolicyForm.{PolicyForm}
use Rattle.scenario.specs.declared.form.PolicyForm.TheVariants as policies
use Rattle.scenario.specs.declared.form.TagForm.{TagForm}
use Rattle.scenario.specs.declared.form.TagForm.TheVariants as tag_forms
use Rattle.scenario.specs.declared.form.WhatForm.{WhatForm}
use Rattle.scenario.specs.declared.form.WhatForm.TheVariants as whats
use Rattle.scenario.specs.Value.{ScenarioValue}
use Rattle.scenario.specs.Lookups.{has_target, has_device, unit_of, tape_of, has_fill, loads_at}
use Rattle.scenario.specs.Needs.{need_of, sent_of}
use Rattle.scenario.specs.Forms.{Said, CmdSaid, scsi_line, initiator_line, target_line, unit_line, fill_line}
use Rattle.scenario.specs.Forms.{tape_line, load_line, cmd_line, abort_line, reset_line, fault_line, end_line, form_of}
use Rattle.scenario.specs.Reading.{Progress, is_size, is_block, is_block_of, load_of, fits_tape, are_ends, payload_of}
use Rattle.scenario.specs.Reading.{is_payload, has_room}
use Rattle.scenario.specs.Reading.{has_abort_room, rank, kind_of, in_order, fits_version, is_printable, is_skipped}

-- A number from `least` to `most`.
abbrev pub is_in : Number → ℕ → ℕ → Bool
is_in None least most = false
is_in (Some n) least most = nat_le least n && nat_le n most

-- The value of a number that is within its limits.
abbrev pub value : Number → ℕ
value None = 0
value (Some n) = n

-- A device or a unit.
abbrev pub is_device : Number → Bool
is_device number = is_in number 0 7

-- A time.
abbrev pub is_time : Number → Bool
is_time number = is_in number 0 TIME_LIMIT

-- A transfer period factor.
abbrev pub is_period : Number → Bool
is_period number = is_in number 0 FACTOR_LIMIT && (value number == 0 || nat_le LEAST_FACTOR (value number))

-- A block size.
abbrev pub is_block_size : Number → Bool
is_block_size number = is_in number LEAST_SIZE SIZE_LIMIT && is_size (value number)

-- A policy.
abbrev pub is_policy : PolicyForm → Bool
is_policy policies.Never = true
is_policy policies.Command = true
is_policy (policies.Burst k) = is_in k 1 BURST_LIMIT
is_policy (policies.NoSave k) = is_in k 1 BURST_LIMIT

-- A tag.
abbrev pub is_tag : TagForm → Bool
is_tag tag_forms.Untagged = true
is_tag (tag_forms.Simple t) = is_in t 0 TAG_LIMIT
is_tag (tag_forms.Ordered t) = is_in t 0 TAG_LIMIT
is_tag (tag_forms.Head t) = is_in t 0 TAG_LIMIT

-- What is aborted.
abbrev pub is_what : WhatForm → Bool
is_what whats.All = true
is_what (whats.Tag t) = is_in t 0 TAG_LIMIT
is_what whats.Queue = true
is_what whats.Device = true

-- The tag that a line names.
abbrev pub tag_value : TagForm → Tag
tag_value tag_forms.Untagged = tags.Untagged
tag_value (tag_forms.Simple t) = tags.Simple (value t)
tag_value (tag_forms.Ordered t) = tags.Ordered (value t)
tag_value (tag_forms.Head t) = tags.Head (value t)

-- The command that a line says.
abbrev pub cmd_value : CmdSaid → CmdDef
cmd_value c = record {
  host = value c.host;
  target = value c.target;
  unit = value c.unit;
  at = value c.at;
  tag = tag_value c.tag;
  cdb = c.cdb;
  payload = payload_of c.payload;
}

-- Reason 3: a kind out of order.
abbrev pub breaks_order : Progress → Said → Bool
breaks_order d x = not (in_order (rank d.last) (rank (kind_of x)))

-- All numbers of the line are within their limits.
abbrev pub keeps_limits : Said → Bool
keeps_limits (scsi_line v) = true
keeps_limits (initiator_line f) = is_device f.device
    && (is_in f.latency 0 LATENCY_LIMIT && (is_in f.«open» 1 OPEN_LIMIT && (is_in f.retries 0 RETRY_LIMIT
    && (is_period f.period && (is_in f.offset 0 HOST_OFFSET_LIMIT && is_in f.lag 0 LAG_LIMIT)))))
keeps_limits (target_line f) = is_device f.device
    && (is_in f.latency 0 LATENCY_LIMIT && (is_in f.retries 0 RETRY_LIMIT && (is_policy f.disc
    && (is_in f.seek 0 SEEK_LIMIT && (is_period f.period && is_in f.offset 0 TARGET_OFFSET_LIMIT)))))
keeps_limits (unit_line f) = is_device f.target
    && (is_device f.unit && (is_in f.blocks 1 BLOCK_LIMIT && (is_block_size f.size && is_in f.depth 1 DEPTH_LIMIT)))
keeps_limits (fill_line f) = is_device f.target && (is_device f.unit && is_in f.lba 0 (2 ^ 64 - 1))
keeps_limits (tape_line f) = is_device f.target
    && (is_device f.unit && (is_in f.objects 1 OBJECT_LIMIT && (is_block_size f.size && is_in f.depth 1 DEPTH_LIMIT)))
keeps_limits (load_line f) = is_device f.target && is_device f.unit
keeps_limits (cmd_line c) =
    is_device c.host && (is_device c.target && (is_device c.unit && (is_time c.at && (is_tag c.tag && is_block c.cdb))))
keeps_limits (abort_line f) =
    is_device f.host && (is_device f.target && (is_device f.unit && (is_time f.at && is_what f.what)))
keeps_limits (reset_line f) = is_device f.device && is_time f.at
keeps_limits (fault_line f) = is_time f.at && is_in f.bit 0 8
keeps_limits end_line = true

-- Reason 4: a number outside its limits, a size that is no power of two, a command block that is not
-- of group 0 or 1 or not of its group's length.
abbrev pub breaks_limits : Said → Bool
breaks_limits x = not (keeps_limits x)

-- Reason 5: a device, unit, tape or block that stood before.
abbrev pub repeats : ScenarioValue → Said → Bool
repeats s (initiator_line f) = has_device s (value f.device)
repeats s (target_line f) = has_device s (value f.device)
repeats s (unit_line f) = is_some (unit_of s (value f.target) (value f.unit))
repeats s (fill_line f) = has_fill s.fills (value f.target) (value f.unit) (value f.lba)
repeats s (tape_line f) = is_some (unit_of s (value f.target) (value f.unit))
repeats s (load_line f) = false
repeats s (scsi_line v) = false
repeats s (cmd_line c) = false
repeats s (abort_line f) = false
repeats s (reset_line f) = false
repeats s (fault_line f) = false
repeats s end_line = false

-- Reason 6: an initiator, target, device, unit or tape that was not declared, or an initiator where a
-- target must stand.
abbrev pub lacks : ScenarioValue → Said → Bool
lacks s (unit_line f) = not (has_target s (value f.target))
lacks s (fill_line f) = is_none (unit_of s (value f.target) (value f.unit))
lacks s (tape_line f) = not (has_target s (value f.target))
lacks s (load_line f) = is_none (tape_of s (value f.target) (value f.unit))
lacks s (cmd_line c) = not (are_ends s (value c.host) (value c.target))
lacks s (abort_line f) = not (are_ends s (value f.host) (value f.target))
lacks s (reset_line f) = not (has_device s (value f.device))
lacks s (scsi_line v) = false
lacks s (initiator_line f) = false
lacks s (target_line f) = false
lacks s (fault_line f) = false
lacks s end_line = false

-- The bytes are one block of a unit that is there, and of its blocks.
abbrev pub is_block_in : Option UnitDef → ℕ → List ℕ → Bool
is_block_in None lba bytes = false
is_block_in (Some u) lba bytes = is_block_of u lba bytes

-- The object fits on a tape that is there, and on which this many stand.
abbrev pub fits_on : Option TapeDef → ℕ → Load → Bool
fits_on None n what = false
fits_on (Some t) n what = fits_tape t n what

-- Reason 7: a fill that is not one block or outside its unit, a load that is not one block or past the end of
-- its tape, or `out` against the need.
abbrev pub misfits : ScenarioValue → Said → Bool
misfits s (fill_line f) = not (is_block_in (unit_of s (value f.target) (value f.unit)) (value f.lba) f.bytes)
misfits s (load_line f) = not (fits_on (tape_of s (value f.target) (value f.unit))
    (loads_at s.loads (value f.target) (value f.unit)) (load_of f.what))
misfits s (cmd_line c) = not (is_payload (sent_of s (cmd_value c)) (payload_of c.payload))
misfits s (scsi_line v) = false
misfits s (initiator_line f) = false
misfits s (target_line f) = false
misfits s (unit_line f) = false
misfits s (tape_line f) = false
misfits s (abort_line f) = false
misfits s (reset_line f) = false
misfits s (fault_line f) = false
misfits s end_line = false

-- Reason 8: one line more than the limit of its kind, or a command that needs too much, by itself or
-- with those before.
abbrev pub is_too_much : Progress → Said → Bool
is_too_much d (cmd_line c) = not (has_room d.scenario d.needs (need_of d.scenario (cmd_value c)))
is_too_much d (abort_line f) = not (has_abort_room d.scenario)
is_too_much d (reset_line f) = not (has_abort_room d.scenario)
is_too_much d (fault_line f) = not (nat_lt (length d.scenario.faults) FAULT_LIMIT)
is_too_much d (scsi_line v) = false
is_too_much d (initiator_line f) = false
is_too_much d (target_line f) = false
is_too_much d (unit_line f) = false
is_too_much d (fill_line f) = false
is_too_much d (tape_line f) = false
is_too_much d (load_line f) = false
is_too_much d end_line = false

-- The lowest of the reasons 4 to 8.
unfoldable pub reason_added : Progress → Said → Option ℕ
reason_added d x =
    if breaks_limits x then Some 4
    else (if repeats d.scenario x then Some 5
    else (if lacks d.scenario x then Some 6
    else (if misfits d.scenario x then Some 7
    else (if is_too_much d x then Some 8 else None))))

-- The lowest reason of a line that has a form. Reason 2: it is of another version.
unfoldable pub reason_said : Progress → Said → Option ℕ
reason_said d x =
    if not (fits_version d.scenario.version x) then Some 2
    else (if breaks_order d x then Some 3 else reason_added d x)

-- Reason 2: the line has no form.
abbrev pub reason_formed : Progress → Option Said → Option ℕ
reason_formed d None = Some 2
reason_formed d (Some x) = reason_said d x

-- The lowest reason of a line after what was read before. Reason 1: a byte other than 20 to 7e;
-- reason 2: no line feed.
unfoldable pub reason_of : Progress → Line → Option ℕ
reason_of d line =
    if not (list_all is_printable line.text) then Some 1
    else (if not line.ended then Some 2
    else (if is_skipped line.text then None else reason_formed d (form_of line.text)))

-- The reason for which a step is not taken.
abbrev pub refused : {A : Type 0} → Result A ℕ → Option ℕ
refused (Ok x) = None
refused (Err r) = Some r
