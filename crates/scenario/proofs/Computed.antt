-- The definitions, computed on written-out texts: one that is good, and each reason once.
use Rattle.std.proofs.Common.{◌≡◌, [], ◌∷◌, true, Ok, Err, refl}
use Rattle.std.specs.Prelude.{codes}
use Rattle.bus_base.specs.declared.events.Pick.TheVariants as picks
use Rattle.bus_base.specs.declared.events.AbortKind.TheVariants as kills
use Rattle.text_words.specs.Words.{after, number_at, hex_digits_at, hex_array_at}
use Rattle.scenario.specs.declared.value.Policy.TheVariants as policies
use Rattle.scenario.specs.declared.value.Tag.TheVariants as tags
use Rattle.scenario.specs.declared.value.Payload.TheVariants as payloads
use Rattle.scenario.specs.Parts.{numbered_at, exactly_at, yes_no_at, flag_at, policy_at, pick_at, tag_at, nothing_at}
use Rattle.scenario.specs.Parts.{hex_at, from_at, payload_at, what_tag_at, what_at}
use Rattle.scenario.specs.Forms.{scsi_at, initiator_at, target_at, unit_at, fill_at, tape_at, load_at, cmd_at, abort_at}
use Rattle.scenario.specs.Forms.{reset_at, fault_at, end_at}
use Rattle.scenario.specs.Needs.{need_of, sent_of}
use Rattle.scenario.specs.Reading.{scenario_of, period_in, size_in, policy_in, tag_in, what_in, host_def, target_def}
use Rattle.scenario.specs.Reading.{unit_def, fill_def, cmd_def, full_cmd_def, abort_def, reset_def, fault_def, added}
use Rattle.scenario.specs.Reading.{said_after, line_after, read_from}

good : scenario_of (codes
    "scsi 2\ninitiator 7 latency 0 open 1 retries 2 sync 0 0 lag 0 offers yes\n#\ntarget 0 latency 0 retries 2 disc burst 3 pick first seek 0 sync 0 0 begins yes\nunit 0 0 blocks 2 size 16 depth 1\nfill 0 0 1 000102030405060708090a0b0c0d0eff\ncmd 7 0 0 at 12 head 9 cdb 0a0000000100 out from fe\ncmd 7 0 0 at 0 untagged cdb 080000000200 none\nabort 7 0 0 at 5 tag 9\nreset 0 at 6\nfault at 7 bit 8\nend\n")
    ≡ Ok (record {
      version = 2;
      hosts =
          record { dev = 7; latency = 0; most = 1; retries = 2; period = 0; offset = 0; lag = 0; offers = true } ∷ [];
      targets = record {
        dev = 0;
        latency = 0;
        retries = 2;
        disc = policies.Burst 3;
        pick = picks.First;
        seek = 0;
        period = 0;
        offset = 0;
        begins = true;
      } ∷ [];
      units = record { target = 0; unit = 0; blocks = 2; size = 16; depth = 1 } ∷ [];
      fills = record {
        target = 0;
        unit = 0;
        lba = 1;
        bytes = 0 ∷ 1 ∷ 2 ∷ 3 ∷ 4 ∷ 5 ∷ 6 ∷ 7 ∷ 8 ∷ 9 ∷ 10 ∷ 11 ∷ 12 ∷ 13 ∷ 14 ∷ 255 ∷ [];
      } ∷ [];
      tapes = [];
      loads = [];
      commands = record {
        host = 7;
        target = 0;
        unit = 0;
        at = 12;
        tag = tags.Head 9;
        cdb = 10 ∷ 0 ∷ 0 ∷ 0 ∷ 1 ∷ 0 ∷ [];
        payload = payloads.From 254;
      } ∷ record {
        host = 7;
        target = 0;
        unit = 0;
        at = 0;
        tag = tags.Untagged;
        cdb = 8 ∷ 0 ∷ 0 ∷ 0 ∷ 2 ∷ 0 ∷ [];
        payload = payloads.Nothing;
      } ∷ [];
      aborts = record { host = 7; target = 0; unit = 0; at = 5; what = kills.Tag 9 } ∷ [];
      resets = record { dev = 0; at = 6 } ∷ [];
      faults = record { at = 7; bit = 8 } ∷ [];
    })
unfolding after number_at hex_digits_at hex_array_at numbered_at exactly_at yes_no_at flag_at policy_at pick_at tag_at
    nothing_at hex_at from_at payload_at what_tag_at what_at scsi_at initiator_at target_at unit_at fill_at tape_at
    load_at cmd_at abort_at reset_at fault_at end_at need_of sent_of period_in size_in policy_in tag_in what_in
    host_def target_def unit_def fill_def cmd_def full_cmd_def abort_def reset_def fault_def added said_after line_after
    read_from
good = refl

bad_0 : scenario_of (codes "scsi 1\nend\t\n") ≡ Err (2, 1)
unfolding after number_at hex_digits_at hex_array_at numbered_at exactly_at yes_no_at flag_at policy_at pick_at tag_at
    nothing_at hex_at from_at payload_at what_tag_at what_at scsi_at initiator_at target_at unit_at fill_at tape_at
    load_at cmd_at abort_at reset_at fault_at end_at need_of sent_of period_in size_in policy_in tag_in what_in
    host_def target_def unit_def fill_def cmd_def full_cmd_def abort_def reset_def fault_def added said_after line_after
    read_from
bad_0 = refl

bad_1 : scenario_of (codes "scsi 1\nend") ≡ Err (2, 2)
unfolding after number_at hex_digits_at hex_array_at numbered_at exactly_at yes_no_at flag_at policy_at pick_at tag_at
    nothing_at hex_at from_at payload_at what_tag_at what_at scsi_at initiator_at target_at unit_at fill_at tape_at
    load_at cmd_at abort_at reset_at fault_at end_at need_of sent_of period_in size_in policy_in tag_in what_in
    host_def target_def unit_def fill_def cmd_def full_cmd_def abort_def reset_def fault_def added said_after line_after
    read_from
bad_1 = refl

bad_2 : scenario_of (codes "") ≡ Err (1, 2)
unfolding after number_at hex_digits_at hex_array_at numbered_at exactly_at yes_no_at flag_at policy_at pick_at tag_at
    nothing_at hex_at from_at payload_at what_tag_at what_at scsi_at initiator_at target_at unit_at fill_at tape_at
    load_at cmd_at abort_at reset_at fault_at end_at need_of sent_of period_in size_in policy_in tag_in what_in
    host_def target_def unit_def fill_def cmd_def full_cmd_def abort_def reset_def fault_def added said_after line_after
    read_from
bad_2 = refl

bad_3 : scenario_of (codes "scsi 2\ninitiator 7 latency 0 open 1 retries 2 sync 0 0 lag 0\n") ≡ Err (2, 2)
unfolding after number_at hex_digits_at hex_array_at numbered_at exactly_at yes_no_at flag_at policy_at pick_at tag_at
    nothing_at hex_at from_at payload_at what_tag_at what_at scsi_at initiator_at target_at unit_at fill_at tape_at
    load_at cmd_at abort_at reset_at fault_at end_at need_of sent_of period_in size_in policy_in tag_in what_in
    host_def target_def unit_def fill_def cmd_def full_cmd_def abort_def reset_def fault_def added said_after line_after
    read_from
bad_3 = refl

bad_4 : scenario_of (codes "end\n") ≡ Err (1, 3)
unfolding after number_at hex_digits_at hex_array_at numbered_at exactly_at yes_no_at flag_at policy_at pick_at tag_at
    nothing_at hex_at from_at payload_at what_tag_at what_at scsi_at initiator_at target_at unit_at fill_at tape_at
    load_at cmd_at abort_at reset_at fault_at end_at need_of sent_of period_in size_in policy_in tag_in what_in
    host_def target_def unit_def fill_def cmd_def full_cmd_def abort_def reset_def fault_def added said_after line_after
    read_from
bad_4 = refl

bad_5 : scenario_of (codes "scsi 1\nend\nend\n") ≡ Err (3, 3)
unfolding after number_at hex_digits_at hex_array_at numbered_at exactly_at yes_no_at flag_at policy_at pick_at tag_at
    nothing_at hex_at from_at payload_at what_tag_at what_at scsi_at initiator_at target_at unit_at fill_at tape_at
    load_at cmd_at abort_at reset_at fault_at end_at need_of sent_of period_in size_in policy_in tag_in what_in
    host_def target_def unit_def fill_def cmd_def full_cmd_def abort_def reset_def fault_def added said_after line_after
    read_from
bad_5 = refl

bad_6 : scenario_of (codes "scsi 1\ninitiator 7 latency 0 open 1 retries 2 sync 24 8 lag 0\n") ≡ Err (2, 4)
unfolding after number_at hex_digits_at hex_array_at numbered_at exactly_at yes_no_at flag_at policy_at pick_at tag_at
    nothing_at hex_at from_at payload_at what_tag_at what_at scsi_at initiator_at target_at unit_at fill_at tape_at
    load_at cmd_at abort_at reset_at fault_at end_at need_of sent_of period_in size_in policy_in tag_in what_in
    host_def target_def unit_def fill_def cmd_def full_cmd_def abort_def reset_def fault_def added said_after line_after
    read_from
bad_6 = refl

bad_7 : scenario_of (codes
    "scsi 1\ninitiator 7 latency 0 open 1 retries 2 sync 0 0 lag 0\ntarget 0 latency 0 retries 2 disc never pick first seek 0 sync 0 0\nunit 0 0 blocks 2 size 24 depth 1\n")
    ≡ Err (4, 4)
unfolding after number_at hex_digits_at hex_array_at numbered_at exactly_at yes_no_at flag_at policy_at pick_at tag_at
    nothing_at hex_at from_at payload_at what_tag_at what_at scsi_at initiator_at target_at unit_at fill_at tape_at
    load_at cmd_at abort_at reset_at fault_at end_at need_of sent_of period_in size_in policy_in tag_in what_in
    host_def target_def unit_def fill_def cmd_def full_cmd_def abort_def reset_def fault_def added said_after line_after
    read_from
bad_7 = refl

bad_8 : scenario_of (codes
    "scsi 1\ninitiator 7 latency 0 open 1 retries 2 sync 0 0 lag 0\ntarget 0 latency 0 retries 2 disc never pick first seek 0 sync 0 0\nunit 0 0 blocks 2 size 16 depth 1\nfill 0 0 18446744073709551616 00\n")
    ≡ Err (5, 4)
unfolding after number_at hex_digits_at hex_array_at numbered_at exactly_at yes_no_at flag_at policy_at pick_at tag_at
    nothing_at hex_at from_at payload_at what_tag_at what_at scsi_at initiator_at target_at unit_at fill_at tape_at
    load_at cmd_at abort_at reset_at fault_at end_at need_of sent_of period_in size_in policy_in tag_in what_in
    host_def target_def unit_def fill_def cmd_def full_cmd_def abort_def reset_def fault_def added said_after line_after
    read_from
bad_8 = refl

bad_9 : scenario_of (codes
    "scsi 1\ninitiator 7 latency 0 open 1 retries 2 sync 0 0 lag 0\ntarget 7 latency 0 retries 2 disc never pick first seek 0 sync 0 0\n")
    ≡ Err (3, 5)
unfolding after number_at hex_digits_at hex_array_at numbered_at exactly_at yes_no_at flag_at policy_at pick_at tag_at
    nothing_at hex_at from_at payload_at what_tag_at what_at scsi_at initiator_at target_at unit_at fill_at tape_at
    load_at cmd_at abort_at reset_at fault_at end_at need_of sent_of period_in size_in policy_in tag_in what_in
    host_def target_def unit_def fill_def cmd_def full_cmd_def abort_def reset_def fault_def added said_after line_after
    read_from
bad_9 = refl

bad_10 : scenario_of (codes
    "scsi 1\ninitiator 7 latency 0 open 1 retries 2 sync 0 0 lag 0\ntarget 0 latency 0 retries 2 disc never pick first seek 0 sync 0 0\nunit 0 0 blocks 2 size 16 depth 1\nfill 0 0 0 000102030405060708090a0b0c0d0e0f\nfill 0 0 0 000102030405060708090a0b0c0d0e0f\n")
    ≡ Err (6, 5)
unfolding after number_at hex_digits_at hex_array_at numbered_at exactly_at yes_no_at flag_at policy_at pick_at tag_at
    nothing_at hex_at from_at payload_at what_tag_at what_at scsi_at initiator_at target_at unit_at fill_at tape_at
    load_at cmd_at abort_at reset_at fault_at end_at need_of sent_of period_in size_in policy_in tag_in what_in
    host_def target_def unit_def fill_def cmd_def full_cmd_def abort_def reset_def fault_def added said_after line_after
    read_from
bad_10 = refl

bad_11 : scenario_of (codes
    "scsi 1\ninitiator 7 latency 0 open 1 retries 2 sync 0 0 lag 0\ntarget 0 latency 0 retries 2 disc never pick first seek 0 sync 0 0\nunit 7 0 blocks 2 size 16 depth 1\n")
    ≡ Err (4, 6)
unfolding after number_at hex_digits_at hex_array_at numbered_at exactly_at yes_no_at flag_at policy_at pick_at tag_at
    nothing_at hex_at from_at payload_at what_tag_at what_at scsi_at initiator_at target_at unit_at fill_at tape_at
    load_at cmd_at abort_at reset_at fault_at end_at need_of sent_of period_in size_in policy_in tag_in what_in
    host_def target_def unit_def fill_def cmd_def full_cmd_def abort_def reset_def fault_def added said_after line_after
    read_from
bad_11 = refl

bad_12 : scenario_of (codes
    "scsi 1\ninitiator 7 latency 0 open 1 retries 2 sync 0 0 lag 0\ntarget 0 latency 0 retries 2 disc never pick first seek 0 sync 0 0\nunit 0 0 blocks 2 size 16 depth 1\ncmd 7 7 0 at 0 untagged cdb 080000000100 none\n")
    ≡ Err (5, 6)
unfolding after number_at hex_digits_at hex_array_at numbered_at exactly_at yes_no_at flag_at policy_at pick_at tag_at
    nothing_at hex_at from_at payload_at what_tag_at what_at scsi_at initiator_at target_at unit_at fill_at tape_at
    load_at cmd_at abort_at reset_at fault_at end_at need_of sent_of period_in size_in policy_in tag_in what_in
    host_def target_def unit_def fill_def cmd_def full_cmd_def abort_def reset_def fault_def added said_after line_after
    read_from
bad_12 = refl

bad_13 : scenario_of (codes
    "scsi 1\ninitiator 7 latency 0 open 1 retries 2 sync 0 0 lag 0\ntarget 0 latency 0 retries 2 disc never pick first seek 0 sync 0 0\nunit 0 0 blocks 2 size 16 depth 1\nfill 0 0 2 000102030405060708090a0b0c0d0e0f\n")
    ≡ Err (5, 7)
unfolding after number_at hex_digits_at hex_array_at numbered_at exactly_at yes_no_at flag_at policy_at pick_at tag_at
    nothing_at hex_at from_at payload_at what_tag_at what_at scsi_at initiator_at target_at unit_at fill_at tape_at
    load_at cmd_at abort_at reset_at fault_at end_at need_of sent_of period_in size_in policy_in tag_in what_in
    host_def target_def unit_def fill_def cmd_def full_cmd_def abort_def reset_def fault_def added said_after line_after
    read_from
bad_13 = refl

bad_14 : scenario_of (codes
    "scsi 1\ninitiator 7 latency 0 open 1 retries 2 sync 0 0 lag 0\ntarget 0 latency 0 retries 2 disc never pick first seek 0 sync 0 0\nunit 0 0 blocks 2 size 16 depth 1\ncmd 7 0 0 at 0 untagged cdb 0a0000000100 none\n")
    ≡ Err (5, 7)
unfolding after number_at hex_digits_at hex_array_at numbered_at exactly_at yes_no_at flag_at policy_at pick_at tag_at
    nothing_at hex_at from_at payload_at what_tag_at what_at scsi_at initiator_at target_at unit_at fill_at tape_at
    load_at cmd_at abort_at reset_at fault_at end_at need_of sent_of period_in size_in policy_in tag_in what_in
    host_def target_def unit_def fill_def cmd_def full_cmd_def abort_def reset_def fault_def added said_after line_after
    read_from
bad_14 = refl

bad_15 : scenario_of (codes
    "scsi 1\ninitiator 7 latency 0 open 1 retries 2 sync 0 0 lag 0\ntarget 0 latency 0 retries 2 disc never pick first seek 0 sync 0 0\nunit 0 0 blocks 4097 size 16 depth 1\ncmd 7 0 0 at 0 untagged cdb 28000000000000100100 none\n")
    ≡ Err (5, 8)
unfolding after number_at hex_digits_at hex_array_at numbered_at exactly_at yes_no_at flag_at policy_at pick_at tag_at
    nothing_at hex_at from_at payload_at what_tag_at what_at scsi_at initiator_at target_at unit_at fill_at tape_at
    load_at cmd_at abort_at reset_at fault_at end_at need_of sent_of period_in size_in policy_in tag_in what_in
    host_def target_def unit_def fill_def cmd_def full_cmd_def abort_def reset_def fault_def added said_after line_after
    read_from
bad_15 = refl
