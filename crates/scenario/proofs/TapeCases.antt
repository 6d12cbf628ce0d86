-- Texts with tapes, computed: some that are good, and each reason of a tape's lines. An independent program gives the
-- same answers.
use Rattle.std.proofs.Common.{◌≡◌, ℕ, Bool, true, false, List, [], ◌∷◌, ◌++◌, map, Some, None, Result, Ok, Err, refl}
use Rattle.std.specs.Prelude.{codes}
use Rattle.std.specs.Fmt.{digits}
use Rattle.bus_base.specs.declared.events.Pick.TheVariants as picks
use Rattle.text_words.specs.Words.{after, number_at, hex_digits_at, hex_array_at}
use Rattle.scenario.specs.declared.value.Policy.TheVariants as policies
use Rattle.scenario.specs.declared.value.Tag.TheVariants as tags
use Rattle.scenario.specs.declared.value.CmdDef.{CmdDef}
use Rattle.scenario.specs.declared.value.Load.TheVariants as loads
use Rattle.scenario.specs.declared.value.Payload.TheVariants as payloads
use Rattle.scenario.specs.Value.{ScenarioValue}
use Rattle.scenario.specs.Parts.{numbered_at, exactly_at, yes_no_at, flag_at, policy_at, pick_at, tag_at, mark_at}
use Rattle.scenario.specs.Parts.{block_at, object_at, nothing_at, hex_at, from_at, payload_at, what_tag_at, what_at}
use Rattle.scenario.specs.Forms.{scsi_at, initiator_at, target_at, unit_at, fill_at, tape_at, load_at, cmd_at, abort_at}
use Rattle.scenario.specs.Forms.{reset_at, fault_at, end_at}
use Rattle.scenario.specs.Lookups.{unit_of, is_tape}
use Rattle.scenario.specs.Needs.{need_of, sent_of}
use Rattle.scenario.specs.Reading.{scenario_of, period_in, size_in, policy_in, tag_in, what_in, host_def, target_def}
use Rattle.scenario.specs.Reading.{unit_def, fill_def, tape_def, load_def, cmd_def, full_cmd_def, abort_def, reset_def}
use Rattle.scenario.specs.Reading.{fault_def, added, said_after, line_after, read_from}
use Rattle.scenario.specs.Writing.{text_of, host_sync_text, initiator_text, target_seek_text, target_disc_text}
use Rattle.scenario.specs.Writing.{target_text, tape_text, load_text, cmd_tag_text, cmd_text}

-- An initiator and a target, which most of the texts begin with.
abbrev ends : List ℕ
ends = codes
    "scsi 3\ninitiator 7 latency 0 open 1 retries 2 sync 0 0 lag 0 offers yes\ntarget 0 latency 0 retries 2 disc never pick first seek 0 sync 0 0 begins no\n"

abbrev answers : List (List ℕ) → List (Result ScenarioValue (ℕ × ℕ))
answers texts = map (λ text. scenario_of (ends ++ text)) texts

abbrev is_read : Result ScenarioValue (ℕ × ℕ) → Bool
is_read (Ok s) = true
is_read (Err e) = false

-- What stands on a tape, in the order of its loads.
abbrev loaded : ScenarioValue
loaded = record {
  version = 3;
  hosts =
      record { dev = 7; latency = 0; most = 1; retries = 2; period = 0; offset = 0; lag = 0; offers = true } ∷ [];
  targets = record {
    dev = 0;
    latency = 0;
    retries = 2;
    disc = policies.Never;
    pick = picks.First;
    seek = 0;
    period = 0;
    offset = 0;
    begins = false;
  } ∷ [];
  units = [];
  fills = [];
  tapes = record { target = 0; unit = 3; objects = 65536; size = 16; depth = 256 } ∷ [];
  loads = record {
    target = 0;
    unit = 3;
    what = loads.Block (0 ∷ 1 ∷ 2 ∷ 3 ∷ 4 ∷ 5 ∷ 6 ∷ 7 ∷ 8 ∷ 9 ∷ 10 ∷ 11 ∷ 12 ∷ 13 ∷ 14 ∷ 15 ∷ []);
  } ∷ record { target = 0; unit = 3; what = loads.Mark } ∷ [];
  commands = record {
    host = 7;
    target = 0;
    unit = 3;
    at = 0;
    tag = tags.Untagged;
    cdb = 10 ∷ 1 ∷ 0 ∷ 0 ∷ 1 ∷ 0 ∷ [];
    payload = payloads.From 32;
  } ∷ [];
  aborts = [];
  resets = [];
  faults = [];
}

reads_a_tape : scenario_of (codes
    "scsi 3\ninitiator 7 latency 0 open 1 retries 2 sync 0 0 lag 0 offers yes\ntarget 0 latency 0 retries 2 disc never pick first seek 0 sync 0 0 begins no\ntape 0 3 objects 65536 size 16 depth 256\nload 0 3 000102030405060708090a0b0c0d0e0f\nload 0 3 mark\ncmd 7 0 3 at 0 untagged cdb 0a0100000100 out from 20\nend\n")
    ≡ Ok loaded
unfolding after number_at hex_digits_at hex_array_at numbered_at exactly_at yes_no_at flag_at policy_at pick_at tag_at
    mark_at block_at object_at nothing_at hex_at from_at payload_at what_tag_at what_at scsi_at initiator_at target_at
    unit_at fill_at tape_at load_at cmd_at abort_at reset_at fault_at end_at need_of sent_of period_in size_in policy_in
    tag_in what_in host_def target_def unit_def fill_def tape_def load_def cmd_def full_cmd_def abort_def reset_def
    fault_def added said_after line_after read_from
reads_a_tape = refl

prints_a_tape : text_of loaded ≡ codes
    "scsi 3\ninitiator 7 latency 0 open 1 retries 2 sync 0 0 lag 0 offers yes\ntarget 0 latency 0 retries 2 disc never pick first seek 0 sync 0 0 begins no\ntape 0 3 objects 65536 size 16 depth 256\nload 0 3 000102030405060708090a0b0c0d0e0f\nload 0 3 mark\ncmd 7 0 3 at 0 untagged cdb 0a0100000100 out from 20\nend\n"
unfolding digits initiator_text host_sync_text target_text target_disc_text target_seek_text tape_text load_text
    cmd_text cmd_tag_text
prints_a_tape = refl

-- What the blocks of commands need at the tape, and what of it is sent: READ and WRITE by their count, whatever the
-- high bits of byte 1; sense and inquiry data; and nothing else, nor where the block has a fault or is one of a disk
-- alone.
abbrev at_tape : List ℕ → CmdDef
at_tape cdb =
    record { host = 7; target = 0; unit = 3; at = 0; tag = tags.Untagged; cdb = cdb; payload = payloads.Nothing }

abbrev blocks : List (List ℕ)
blocks =
    (8 ∷ 1 ∷ 0 ∷ 0 ∷ 3 ∷ 0 ∷ [])
    ∷ (10 ∷ 1 ∷ 0 ∷ 0 ∷ 2 ∷ 0 ∷ [])
    ∷ (10 ∷ 1 ∷ 0 ∷ 0 ∷ 0 ∷ 0 ∷ [])
    ∷ (8 ∷ 225 ∷ 0 ∷ 0 ∷ 1 ∷ 0 ∷ [])
    ∷ (8 ∷ 1 ∷ 255 ∷ 255 ∷ 255 ∷ 0 ∷ [])
    ∷ (3 ∷ 0 ∷ 0 ∷ 0 ∷ 18 ∷ 0 ∷ [])
    ∷ (3 ∷ 0 ∷ 0 ∷ 0 ∷ 255 ∷ 0 ∷ [])
    ∷ (3 ∷ 0 ∷ 0 ∷ 0 ∷ 5 ∷ 0 ∷ [])
    ∷ (18 ∷ 0 ∷ 0 ∷ 0 ∷ 36 ∷ 0 ∷ [])
    ∷ (18 ∷ 0 ∷ 0 ∷ 0 ∷ 255 ∷ 0 ∷ [])
    ∷ (18 ∷ 0 ∷ 0 ∷ 0 ∷ 5 ∷ 0 ∷ [])
    ∷ (0 ∷ 0 ∷ 0 ∷ 0 ∷ 0 ∷ 0 ∷ [])
    ∷ (1 ∷ 1 ∷ 0 ∷ 0 ∷ 0 ∷ 0 ∷ [])
    ∷ (16 ∷ 0 ∷ 0 ∷ 0 ∷ 8 ∷ 0 ∷ [])
    ∷ (17 ∷ 1 ∷ 0 ∷ 0 ∷ 1 ∷ 0 ∷ [])
    ∷ (8 ∷ 0 ∷ 0 ∷ 0 ∷ 1 ∷ 0 ∷ [])
    ∷ (10 ∷ 0 ∷ 0 ∷ 0 ∷ 1 ∷ 0 ∷ [])
    ∷ (42 ∷ 0 ∷ 0 ∷ 0 ∷ 0 ∷ 0 ∷ 0 ∷ 0 ∷ 1 ∷ 0 ∷ [])
    ∷ (37 ∷ 0 ∷ 0 ∷ 0 ∷ 0 ∷ 0 ∷ 0 ∷ 0 ∷ 0 ∷ 0 ∷ [])
    ∷ []

needs_at_a_tape : map (λ cdb. need_of loaded (at_tape cdb)) blocks
    ≡ 48 ∷ 32 ∷ 0 ∷ 16 ∷ 268435440 ∷ 18 ∷ 18 ∷ 5 ∷ 36 ∷ 36 ∷ 5 ∷ 0 ∷ 0 ∷ 0 ∷ 0 ∷ 0 ∷ 0 ∷ 0 ∷ 0 ∷ []
unfolding need_of
needs_at_a_tape = refl

sent_to_a_tape : map (λ cdb. sent_of loaded (at_tape cdb)) blocks
    ≡ 0 ∷ 32 ∷ 0 ∷ 0 ∷ 0 ∷ 0 ∷ 0 ∷ 0 ∷ 0 ∷ 0 ∷ 0 ∷ 0 ∷ 0 ∷ 0 ∷ 0 ∷ 0 ∷ 0 ∷ 0 ∷ 0 ∷ []
unfolding need_of sent_of
sent_to_a_tape = refl

-- The tape is a unit, and no other is.
units_with_a_tape :
    (unit_of loaded 0 3 ≡ Some (record { target = 0; unit = 3; blocks = 65536; size = 16; depth = 256 }))
    × (unit_of loaded 0 0 ≡ None) × (is_tape loaded 0 3 ≡ true) × (is_tape loaded 3 0 ≡ false)
units_with_a_tape = (refl, refl, refl, refl)

-- Good texts: a need at its limit, by itself and in all; the largest tape; blocks that a tape refuses need nothing;
-- each command of a tape; a tape that is full; and no tape.
good_texts : map is_read
    (answers (codes "tape 0 0 objects 12 size 16 depth 1\ncmd 7 0 0 at 0 untagged cdb 080100100000 none\nend\n" ∷ codes
    "tape 0 0 objects 12 size 2048 depth 1\ncmd 7 0 0 at 0 untagged cdb 080100002000 none\ncmd 7 0 0 at 0 untagged cdb 080100002000 none\ncmd 7 0 0 at 0 untagged cdb 080100002000 none\ncmd 7 0 0 at 0 untagged cdb 080100002000 none\ncmd 7 0 0 at 0 untagged cdb 080100002000 none\ncmd 7 0 0 at 0 untagged cdb 080100002000 none\ncmd 7 0 0 at 0 untagged cdb 080100002000 none\ncmd 7 0 0 at 0 untagged cdb 080100002000 none\ncmd 7 0 0 at 0 untagged cdb 080100002000 none\ncmd 7 0 0 at 0 untagged cdb 080100002000 none\ncmd 7 0 0 at 0 untagged cdb 080100002000 none\ncmd 7 0 0 at 0 untagged cdb 080100002000 none\ncmd 7 0 0 at 0 untagged cdb 080100002000 none\ncmd 7 0 0 at 0 untagged cdb 080100002000 none\ncmd 7 0 0 at 0 untagged cdb 080100002000 none\ncmd 7 0 0 at 0 untagged cdb 080100002000 none\nend\n" ∷ codes "tape 0 0 objects 65536 size 16 depth 256\nend\n" ∷ codes "tape 0 0 objects 12 size 16 depth 1\ncmd 7 0 0 at 0 untagged cdb 0a0000000100 none\ncmd 7 0 0 at 0 untagged cdb 080000000100 none\ncmd 7 0 0 at 0 untagged cdb 2a000000000000000100 none\ncmd 7 0 0 at 0 untagged cdb 25000000000000000000 none\nend\n" ∷ codes "tape 0 0 objects 12 size 16 depth 1\ncmd 7 0 0 at 0 untagged cdb 0a0100000100 out from 20\ncmd 7 0 0 at 0 untagged cdb 0a0100000200 out hex 000102030405060708090a0b0c0d0e0f000102030405060708090a0b0c0d0e0f\ncmd 7 0 0 at 0 untagged cdb 100000000800 none\ncmd 7 0 0 at 0 untagged cdb 110100000100 none\ncmd 7 0 0 at 0 untagged cdb 010100000000 none\ncmd 7 0 0 at 0 untagged cdb 0a0100000000 none\nend\n"
    ∷ codes "tape 0 0 objects 2 size 16 depth 1\nload 0 0 mark\nload 0 0 000102030405060708090a0b0c0d0e0f\nend\n"
    ∷ codes "end\n" ∷ [])) ≡ true ∷ true ∷ true ∷ true ∷ true ∷ true ∷ true ∷ []
unfolding after number_at hex_digits_at hex_array_at numbered_at exactly_at yes_no_at flag_at policy_at pick_at tag_at
    mark_at block_at object_at nothing_at hex_at from_at payload_at what_tag_at what_at scsi_at initiator_at target_at
    unit_at fill_at tape_at load_at cmd_at abort_at reset_at fault_at end_at need_of sent_of period_in size_in policy_in
    tag_in what_in host_def target_def unit_def fill_def tape_def load_def cmd_def full_cmd_def abort_def reset_def
    fault_def added said_after line_after read_from
good_texts = refl

-- Which version a line is of, and which the text is of.
versions_refused : map scenario_of (codes "tape 0 0 objects 12 size 16 depth 1\nend\n" ∷ codes "load 0 0 mark\nend\n"
    ∷ codes "scsi 4\nend\n" ∷ codes "scsi 3\nscsi 2\nend\n" ∷ codes "scsi 3\nscsi 3\nend\n"
    ∷ codes "scsi 1\ninitiator 7 latency 0 open 1 retries 2 sync 0 0 lag 0\ntape 0 0 objects 12 size 16 depth 1\nend\n"
    ∷ codes "scsi 2\nload 0 0 mark\nend\n"
    ∷ codes "scsi 3\ninitiator 7 latency 0 open 1 retries 2 sync 0 0 lag 0\nend\n"
    ∷ codes "scsi 3\ntarget 0 latency 0 retries 2 disc never pick first seek 0 sync 0 0\nend\n" ∷ [])
    ≡ Err (1, 3) ∷ Err (1, 3) ∷ Err (1, 2) ∷ Err (2, 2) ∷ Err (2, 3) ∷ Err (3, 2) ∷ Err (2, 2) ∷ Err (2, 2) ∷ Err (2, 2)
    ∷ []
unfolding after number_at hex_digits_at hex_array_at numbered_at exactly_at yes_no_at flag_at policy_at pick_at tag_at
    mark_at block_at object_at nothing_at hex_at from_at payload_at what_tag_at what_at scsi_at initiator_at target_at
    unit_at fill_at tape_at load_at cmd_at abort_at reset_at fault_at end_at need_of sent_of period_in size_in policy_in
    tag_in what_in host_def target_def unit_def fill_def tape_def load_def cmd_def full_cmd_def abort_def reset_def
    fault_def added said_after line_after read_from
versions_refused = refl

-- Lines that have no form.
forms_refused : answers (
    codes "tape 0 0 blocks 12 size 16 depth 1\nend\n"
    ∷ codes "tape 0 0 objects 012 size 16 depth 1\nend\n"
    ∷ codes "tape 0 0 objects 12 size 16 depth 1 \nend\n"
    ∷ codes "tape 0 0 objects 12 size 16 depth 1\nload 0 0\nend\n"
    ∷ codes "tape 0 0 objects 12 size 16 depth 1\nload 0 0 marks\nend\n"
    ∷ codes "tape 0 0 objects 12 size 16 depth 1\nload 0 0 4\nend\n"
    ∷ codes "tape 0 0 objects 12 size 16 depth 1\nload 0 0 4A\nend\n"
    ∷ codes "tape 0 0 objects 12 size 16 depth 1\nload 0 0 out 41\nend\n"
    ∷ []) ≡ Err (4, 2) ∷ Err (4, 2) ∷ Err (4, 2) ∷ Err (5, 2) ∷ Err (5, 2) ∷ Err (5, 2) ∷ Err (5, 2) ∷ Err (5, 2) ∷ []
unfolding after number_at hex_digits_at hex_array_at numbered_at exactly_at yes_no_at flag_at policy_at pick_at tag_at
    mark_at block_at object_at nothing_at hex_at from_at payload_at what_tag_at what_at scsi_at initiator_at target_at
    unit_at fill_at tape_at load_at cmd_at abort_at reset_at fault_at end_at need_of sent_of period_in size_in policy_in
    tag_in what_in host_def target_def unit_def fill_def tape_def load_def cmd_def full_cmd_def abort_def reset_def
    fault_def added said_after line_after read_from
forms_refused = refl

-- Kinds out of order.
order_refused : answers (codes
    "unit 0 1 blocks 4 size 16 depth 1\ntape 0 0 objects 12 size 16 depth 1\nfill 0 1 0 41414141414141414141414141414141\nend\n"
    ∷ codes "tape 0 0 objects 12 size 16 depth 1\nunit 0 1 blocks 4 size 16 depth 1\nend\n"
    ∷ codes "tape 0 0 objects 12 size 16 depth 1\nload 0 0 mark\ntape 0 1 objects 12 size 16 depth 1\nend\n"
    ∷ codes "tape 0 0 objects 12 size 16 depth 1\ncmd 7 0 0 at 0 untagged cdb 010000000000 none\nload 0 0 mark\nend\n"
    ∷ codes "tape 0 0 objects 12 size 16 depth 1\nend\nload 0 0 mark\n" ∷ [])
    ≡ Err (6, 3) ∷ Err (5, 3) ∷ Err (6, 3) ∷ Err (6, 3) ∷ Err (6, 3) ∷ []
unfolding after number_at hex_digits_at hex_array_at numbered_at exactly_at yes_no_at flag_at policy_at pick_at tag_at
    mark_at block_at object_at nothing_at hex_at from_at payload_at what_tag_at what_at scsi_at initiator_at target_at
    unit_at fill_at tape_at load_at cmd_at abort_at reset_at fault_at end_at need_of sent_of period_in size_in policy_in
    tag_in what_in host_def target_def unit_def fill_def tape_def load_def cmd_def full_cmd_def abort_def reset_def
    fault_def added said_after line_after read_from
order_refused = refl

-- Numbers outside their limits.
limits_refused : answers (codes "tape 0 0 objects 65537 size 16 depth 1\nend\n"
    ∷ codes "tape 0 0 objects 0 size 16 depth 1\nend\n" ∷ codes "tape 0 8 objects 12 size 16 depth 1\nend\n"
    ∷ codes "tape 8 0 objects 12 size 16 depth 1\nend\n" ∷ codes "tape 0 0 objects 12 size 24 depth 1\nend\n"
    ∷ codes "tape 0 0 objects 12 size 4096 depth 1\nend\n" ∷ codes "tape 0 0 objects 12 size 16 depth 257\nend\n"
    ∷ codes "tape 0 0 objects 18446744073709551616 size 16 depth 1\nend\n"
    ∷ codes "tape 0 0 objects 12 size 16 depth 1\nload 8 0 mark\nend\n"
    ∷ codes "tape 0 0 objects 12 size 16 depth 1\nload 0 8 mark\nend\n" ∷ [])
    ≡ Err (4, 4) ∷ Err (4, 4) ∷ Err (4, 4) ∷ Err (4, 4) ∷ Err (4, 4) ∷ Err (4, 4) ∷ Err (4, 4) ∷ Err (4, 4) ∷ Err (5, 4)
    ∷ Err (5, 4) ∷ []
unfolding after number_at hex_digits_at hex_array_at numbered_at exactly_at yes_no_at flag_at policy_at pick_at tag_at
    mark_at block_at object_at nothing_at hex_at from_at payload_at what_tag_at what_at scsi_at initiator_at target_at
    unit_at fill_at tape_at load_at cmd_at abort_at reset_at fault_at end_at need_of sent_of period_in size_in policy_in
    tag_in what_in host_def target_def unit_def fill_def tape_def load_def cmd_def full_cmd_def abort_def reset_def
    fault_def added said_after line_after read_from
limits_refused = refl

-- A unit or a tape that stood before; a number outside its limits goes before it, and a target that was not declared
-- after it.
repeats_refused : answers (
    codes "tape 0 0 objects 12 size 16 depth 1\ntape 0 0 objects 12 size 16 depth 1\nend\n"
    ∷ codes "unit 0 0 blocks 4 size 16 depth 1\ntape 0 0 objects 12 size 16 depth 1\nend\n"
    ∷ codes "unit 0 0 blocks 4 size 16 depth 1\ntape 0 0 objects 0 size 16 depth 1\nend\n"
    ∷ []) ≡ Err (5, 5) ∷ Err (5, 5) ∷ Err (5, 4) ∷ []
unfolding after number_at hex_digits_at hex_array_at numbered_at exactly_at yes_no_at flag_at policy_at pick_at tag_at
    mark_at block_at object_at nothing_at hex_at from_at payload_at what_tag_at what_at scsi_at initiator_at target_at
    unit_at fill_at tape_at load_at cmd_at abort_at reset_at fault_at end_at need_of sent_of period_in size_in policy_in
    tag_in what_in host_def target_def unit_def fill_def tape_def load_def cmd_def full_cmd_def abort_def reset_def
    fault_def added said_after line_after read_from
repeats_refused = refl

-- What was not declared.
lacks_refused : answers (
    codes "tape 1 0 objects 12 size 16 depth 1\nend\n"
    ∷ codes "tape 7 0 objects 12 size 16 depth 1\nend\n"
    ∷ codes "tape 0 0 objects 12 size 16 depth 1\nload 0 1 mark\nend\n"
    ∷ codes "unit 0 1 blocks 4 size 16 depth 1\ntape 0 0 objects 12 size 16 depth 1\nload 0 1 mark\nend\n"
    ∷ codes "load 0 0 4141\nend\n"
    ∷ []) ≡ Err (4, 6) ∷ Err (4, 6) ∷ Err (5, 6) ∷ Err (6, 6) ∷ Err (4, 6) ∷ []
unfolding after number_at hex_digits_at hex_array_at numbered_at exactly_at yes_no_at flag_at policy_at pick_at tag_at
    mark_at block_at object_at nothing_at hex_at from_at payload_at what_tag_at what_at scsi_at initiator_at target_at
    unit_at fill_at tape_at load_at cmd_at abort_at reset_at fault_at end_at need_of sent_of period_in size_in policy_in
    tag_in what_in host_def target_def unit_def fill_def tape_def load_def cmd_def full_cmd_def abort_def reset_def
    fault_def added said_after line_after read_from
lacks_refused = refl

-- A load that is not one block, or past the end of the tape.
objects_refused : answers (codes "tape 0 0 objects 12 size 16 depth 1\nload 0 0 4141\nend\n"
    ∷ codes "tape 0 0 objects 12 size 16 depth 1\nload 0 0 000102030405060708090a0b0c0d0e0f10\nend\n"
    ∷ codes "tape 0 0 objects 1 size 16 depth 1\nload 0 0 mark\nload 0 0 mark\nend\n" ∷ codes
    "tape 0 0 objects 2 size 16 depth 1\ntape 0 1 objects 1 size 16 depth 1\nload 0 0 mark\nload 0 1 mark\nload 0 0 000102030405060708090a0b0c0d0e0f\nload 0 0 000102030405060708090a0b0c0d0e0f\nend\n" ∷ codes "tape 0 0 objects 1 size 16 depth 1\ntape 0 1 objects 1 size 16 depth 1\nload 0 1 mark\nload 0 0 mark\nload 0 1 mark\nend\n"
    ∷ []) ≡ Err (5, 7) ∷ Err (5, 7) ∷ Err (6, 7) ∷ Err (9, 7) ∷ Err (8, 7) ∷ []
unfolding after number_at hex_digits_at hex_array_at numbered_at exactly_at yes_no_at flag_at policy_at pick_at tag_at
    mark_at block_at object_at nothing_at hex_at from_at payload_at what_tag_at what_at scsi_at initiator_at target_at
    unit_at fill_at tape_at load_at cmd_at abort_at reset_at fault_at end_at need_of sent_of period_in size_in policy_in
    tag_in what_in host_def target_def unit_def fill_def tape_def load_def cmd_def full_cmd_def abort_def reset_def
    fault_def added said_after line_after read_from
objects_refused = refl

-- What a command sends to a tape.
payloads_refused :
    answers (codes "tape 0 0 objects 12 size 16 depth 1\ncmd 7 0 0 at 0 untagged cdb 0a0100000100 none\nend\n"
    ∷ codes "tape 0 0 objects 12 size 16 depth 1\ncmd 7 0 0 at 0 untagged cdb 0a0000000100 out from 00\nend\n" ∷ codes
    "tape 0 0 objects 12 size 16 depth 1\ncmd 7 0 0 at 0 untagged cdb 0a0100000200 out hex 000102030405060708090a0b0c0d0e0f\nend\n" ∷ codes "tape 0 0 objects 12 size 16 depth 1\ncmd 7 0 0 at 0 untagged cdb 080100000100 out from 00\nend\n" ∷ codes "tape 0 0 objects 12 size 16 depth 1\ncmd 7 0 0 at 0 untagged cdb 100000000100 out from 00\nend\n" ∷ codes "tape 0 0 objects 12 size 16 depth 1\ncmd 7 0 0 at 0 untagged cdb 2a000000000000000100 out from 00\nend\n" ∷ codes "tape 0 0 objects 12 size 16 depth 1\ncmd 7 0 0 at 0 untagged cdb 0a0100000000 out from 00\nend\n" ∷ codes "unit 0 1 blocks 4 size 16 depth 1\ntape 0 0 objects 12 size 16 depth 1\ncmd 7 0 1 at 0 untagged cdb 0a0100000100 out from 00\nend\n"
    ∷ []) ≡ Err (5, 7) ∷ Err (5, 7) ∷ Err (5, 7) ∷ Err (5, 7) ∷ Err (5, 7) ∷ Err (5, 7) ∷ Err (5, 7) ∷ Err (6, 7) ∷ []
unfolding after number_at hex_digits_at hex_array_at numbered_at exactly_at yes_no_at flag_at policy_at pick_at tag_at
    mark_at block_at object_at nothing_at hex_at from_at payload_at what_tag_at what_at scsi_at initiator_at target_at
    unit_at fill_at tape_at load_at cmd_at abort_at reset_at fault_at end_at need_of sent_of period_in size_in policy_in
    tag_in what_in host_def target_def unit_def fill_def tape_def load_def cmd_def full_cmd_def abort_def reset_def
    fault_def added said_after line_after read_from
payloads_refused = refl

-- What a command of a tape needs, by itself and with those before.
needs_refused :
    answers (codes "tape 0 0 objects 12 size 16 depth 1\ncmd 7 0 0 at 0 untagged cdb 080100100100 none\nend\n"
    ∷ codes "tape 0 0 objects 12 size 16 depth 1\ncmd 7 0 0 at 0 untagged cdb 0a01ffffff00 out from 00\nend\n" ∷ codes
    "tape 0 0 objects 12 size 2048 depth 1\ncmd 7 0 0 at 0 untagged cdb 080100002000 none\ncmd 7 0 0 at 0 untagged cdb 080100002000 none\ncmd 7 0 0 at 0 untagged cdb 080100002000 none\ncmd 7 0 0 at 0 untagged cdb 080100002000 none\ncmd 7 0 0 at 0 untagged cdb 080100002000 none\ncmd 7 0 0 at 0 untagged cdb 080100002000 none\ncmd 7 0 0 at 0 untagged cdb 080100002000 none\ncmd 7 0 0 at 0 untagged cdb 080100002000 none\ncmd 7 0 0 at 0 untagged cdb 080100002000 none\ncmd 7 0 0 at 0 untagged cdb 080100002000 none\ncmd 7 0 0 at 0 untagged cdb 080100002000 none\ncmd 7 0 0 at 0 untagged cdb 080100002000 none\ncmd 7 0 0 at 0 untagged cdb 080100002000 none\ncmd 7 0 0 at 0 untagged cdb 080100002000 none\ncmd 7 0 0 at 0 untagged cdb 080100002000 none\ncmd 7 0 0 at 0 untagged cdb 080100002000 none\ncmd 7 0 0 at 0 untagged cdb 080100002000 none\nend\n"
    ∷ []) ≡ Err (5, 8) ∷ Err (5, 8) ∷ Err (21, 8) ∷ []
unfolding after number_at hex_digits_at hex_array_at numbered_at exactly_at yes_no_at flag_at policy_at pick_at tag_at
    mark_at block_at object_at nothing_at hex_at from_at payload_at what_tag_at what_at scsi_at initiator_at target_at
    unit_at fill_at tape_at load_at cmd_at abort_at reset_at fault_at end_at need_of sent_of period_in size_in policy_in
    tag_in what_in host_def target_def unit_def fill_def tape_def load_def cmd_def full_cmd_def abort_def reset_def
    fault_def added said_after line_after read_from
needs_refused = refl
