-- Scenarios of numbers, as an independent simulator makes them. tools/makers/make_case.py writes this file.
use Rattle.std.proofs.Common.{◌≡◌, refl}
use Rattle.std.specs.Prelude.{codes}
use Rattle.std.specs.Fmt.{digits}
use Rattle.scenario.specs.Writing.{text_of, host_sync_text, initiator_text, target_seek_text, target_disc_text, target_text, unit_text, cmd_tag_text, cmd_text}
use Rattle.scenario.specs.Making.{made}

made_1_2 : text_of (made 1 2)
    ≡ codes "scsi 1\ninitiator 7 latency 0 open 8 retries 2 sync 50 8 lag 0\ninitiator 6 latency 20 open 8 retries 2 sync 0 0 lag 0\ntarget 0 latency 0 retries 2 disc command pick first seek 2000 sync 50 8\ntarget 1 latency 30 retries 2 disc burst 1 pick last seek 3000 sync 50 8\ntarget 2 latency 10 retries 2 disc never pick first seek 1000 sync 0 0\nunit 0 0 blocks 2048 size 128 depth 16\nunit 1 0 blocks 2048 size 128 depth 16\nunit 2 0 blocks 2048 size 128 depth 16\ncmd 6 0 0 at 0 simple 1 cdb 080000f10200 none\ncmd 7 2 0 at 0 simple 2 cdb 0a00036a0100 out from 02\nend\n"
unfolding digits initiator_text host_sync_text target_text target_disc_text target_seek_text unit_text cmd_text cmd_tag_text
made_1_2 = refl

made_7_5 : text_of (made 7 5)
    ≡ codes "scsi 1\ninitiator 7 latency 0 open 8 retries 2 sync 50 8 lag 0\ninitiator 6 latency 20 open 8 retries 2 sync 0 0 lag 0\ntarget 0 latency 0 retries 2 disc command pick first seek 2000 sync 50 8\ntarget 1 latency 30 retries 2 disc burst 1 pick last seek 3000 sync 50 8\ntarget 2 latency 10 retries 2 disc never pick first seek 1000 sync 0 0\nunit 0 0 blocks 2048 size 128 depth 16\nunit 1 0 blocks 2048 size 128 depth 16\nunit 2 0 blocks 2048 size 128 depth 16\ncmd 7 0 0 at 0 simple 1 cdb 0a0003c60200 out from 01\ncmd 6 2 0 at 0 simple 2 cdb 0a00023f0100 out from 02\ncmd 7 2 0 at 0 simple 3 cdb 080000b80200 none\ncmd 6 0 0 at 0 simple 4 cdb 080003310100 none\ncmd 7 0 0 at 0 simple 5 cdb 0a0001aa0200 out from 05\nend\n"
unfolding digits initiator_text host_sync_text target_text target_disc_text target_seek_text unit_text cmd_text cmd_tag_text
made_7_5 = refl

made_65535_3 : text_of (made 65535 3)
    ≡ codes "scsi 1\ninitiator 7 latency 0 open 8 retries 2 sync 50 8 lag 0\ninitiator 6 latency 20 open 8 retries 2 sync 0 0 lag 0\ntarget 0 latency 0 retries 2 disc command pick first seek 2000 sync 50 8\ntarget 1 latency 30 retries 2 disc burst 1 pick last seek 3000 sync 50 8\ntarget 2 latency 10 retries 2 disc never pick first seek 1000 sync 0 0\nunit 0 0 blocks 2048 size 128 depth 16\nunit 1 0 blocks 2048 size 128 depth 16\nunit 2 0 blocks 2048 size 128 depth 16\ncmd 7 0 0 at 0 simple 1 cdb 080000000200 none\ncmd 7 1 0 at 0 simple 2 cdb 0a0002780100 out from 02\ncmd 6 0 0 at 0 simple 3 cdb 080000f10200 none\nend\n"
unfolding digits initiator_text host_sync_text target_text target_disc_text target_seek_text unit_text cmd_text cmd_tag_text
made_65535_3 = refl

made_18446744073709551615_2 : text_of (made 18446744073709551615 2)
    ≡ codes "scsi 1\ninitiator 7 latency 0 open 8 retries 2 sync 50 8 lag 0\ninitiator 6 latency 20 open 8 retries 2 sync 0 0 lag 0\ntarget 0 latency 0 retries 2 disc command pick first seek 2000 sync 50 8\ntarget 1 latency 30 retries 2 disc burst 1 pick last seek 3000 sync 50 8\ntarget 2 latency 10 retries 2 disc never pick first seek 1000 sync 0 0\nunit 0 0 blocks 2048 size 128 depth 16\nunit 1 0 blocks 2048 size 128 depth 16\nunit 2 0 blocks 2048 size 128 depth 16\ncmd 7 0 0 at 0 simple 1 cdb 080000000200 none\ncmd 7 1 0 at 0 simple 2 cdb 0a0002780100 out from 02\nend\n"
unfolding digits initiator_text host_sync_text target_text target_disc_text target_seek_text unit_text cmd_text cmd_tag_text
made_18446744073709551615_2 = refl
