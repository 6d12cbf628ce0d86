-- Whole runs, read off the rows of their traces and computed: the histories are those of the reports, which an
-- independent simulator printed. Written by tools/makers/story_case.py.
use Rattle.bus_phases.specs.bus_trace.specs.LineSet.{set_of, line_of}
use Rattle.bus_phases.specs.bus_trace.specs.View.{union_below}
use Rattle.bus_phases.specs.bus_trace.specs.declared.Row.{Row}
use Rattle.bus_phases.specs.bus_trace.specs.declared.Kind.TheVariants.{Drives, Fault}
use Rattle.bus_phases.specs.msg_grammar.specs.Messages.{form_out, form_in}
use Rattle.story_model.specs.Story.{Story}
use Rattle.story_model.specs.TraceHistory.{story}
use Rattle.story_model.specs.Outcomes.{Outcome, outcomes, ended_good, ended_check, ended_full, ended_unanswered, ended_lost, ended_reset, ended_aborted}
use Rattle.story_model.specs.Right.{all_carried}
use Rattle.story_model.specs.Samples.{expected_strikes, row_strikes}
use Rattle.std.proofs.Common.{ℕ, ◌≡◌, Bool, true, false, List, [], ◌∷◌, reverse, refl}
use Rattle.std.specs.Prelude.{Option, Some, None}
use lib.Count.{ones}
use Rattle.bus_phases.specs.bus_base.specs.declared.ProcId.{ProcId}
use Rattle.bus_phases.specs.bus_base.specs.declared.AbortKind.TheVariants as aborts
use Rattle.bus_phases.specs.bus_base.specs.declared.Event.{Event}
use Rattle.bus_phases.specs.bus_base.specs.declared.Event.TheVariants as events
use Rattle.bus_phases.specs.bus_base.specs.declared.events.Pick.TheVariants as picks
use Rattle.array_model.specs.scenario.specs.declared.value.FillDef.{FillDef}
use Rattle.array_model.specs.scenario.specs.declared.value.UnitDef.{UnitDef}
use Rattle.array_model.specs.scenario.specs.declared.value.Policy.TheVariants as policies
use Rattle.array_model.specs.scenario.specs.declared.value.Load.TheVariants as loads
use Rattle.array_model.specs.scenario.specs.declared.value.Tag.TheVariants as tags
use Rattle.array_model.specs.scenario.specs.declared.value.Payload.TheVariants as payloads
use Rattle.array_model.specs.scenario.specs.Value.{ScenarioValue}
use Rattle.array_model.specs.scenario.specs.Needs.{need_of, sent_of}
use Rattle.array_model.specs.Contents.{Contents, starting_contents, printed_blocks}
use Rattle.array_model.specs.Execution.{Reply, good, check_condition, queue_full, sense_of}
use Rattle.array_model.specs.ArrayHistory.{array_after, disks_of, reply_of}

abbrev drive : ℕ → ℕ → ℕ → Row
drive time dev lines = record { time = time; dev = dev; kind = Drives (set_of lines) }

abbrev strike : ℕ → ℕ → ℕ → Row
strike time dev bit = record { time = time; dev = dev; kind = Fault bit }

-- What the rows of a run tell: its history, how each command ended, and whether each process carried just its bytes. The story of the
-- rows is computed once for all three.
record Shows : Type 0 where
  history : List Event
  ends : List (Option Outcome)
  carried : Bool

abbrev shown : ScenarioValue → Story → List Event → Shows
shown s b told = record { history = b.history; ends = outcomes s b; carried = all_carried s b told }

abbrev command : ℕ → ProcId
command n = record { command = n; sense = false }

abbrev sense : ℕ → ProcId
sense n = record { command = n; sense = true }

-- ---- aborts_and_resets_run

abbrev aborts_and_resets_run : ScenarioValue
aborts_and_resets_run = record {
  version = 1;
  hosts = record { dev = 2; latency = 100; most = 8; retries = 5; period = 50; offset = 8; lag = 0; offers = true } ∷ record { dev = 6; latency = 100; most = 1; retries = 5; period = 50; offset = 8; lag = 100; offers = true } ∷ record { dev = 3; latency = 100; most = 4; retries = 1; period = 50; offset = 8; lag = 55; offers = true } ∷ record { dev = 4; latency = 100; most = 2; retries = 2; period = 50; offset = 8; lag = 55; offers = true } ∷ record { dev = 1; latency = 100; most = 2; retries = 2; period = 50; offset = 8; lag = 0; offers = true } ∷ record { dev = 7; latency = 100; most = 4; retries = 0; period = 50; offset = 8; lag = 55; offers = true } ∷ record { dev = 5; latency = 100; most = 4; retries = 0; period = 50; offset = 8; lag = 55; offers = true } ∷ [];
  targets = record { dev = 0; latency = 100; retries = 1; disc = policies.NoSave 3; pick = picks.First; seek = 20000; period = 50; offset = 8; begins = false } ∷ [];
  units = record { target = 0; unit = 5; blocks = 8; size = 16; depth = 2 } ∷ [];
  fills = record { target = 0; unit = 5; lba = 0; bytes = (0 ∷ 60 ∷ 0 ∷ 73 ∷ 57 ∷ 198 ∷ 0 ∷ 0 ∷ 226 ∷ 78 ∷ 52 ∷ 120 ∷ 160 ∷ 163 ∷ 155 ∷ 140 ∷ []) } ∷ record { target = 0; unit = 5; lba = 1; bytes = (0 ∷ 0 ∷ 0 ∷ 169 ∷ 199 ∷ 0 ∷ 162 ∷ 204 ∷ 0 ∷ 153 ∷ 40 ∷ 0 ∷ 0 ∷ 145 ∷ 0 ∷ 190 ∷ []) } ∷ record { target = 0; unit = 5; lba = 2; bytes = (88 ∷ 0 ∷ 51 ∷ 210 ∷ 0 ∷ 0 ∷ 163 ∷ 95 ∷ 126 ∷ 110 ∷ 0 ∷ 162 ∷ 40 ∷ 0 ∷ 51 ∷ 163 ∷ []) } ∷ record { target = 0; unit = 5; lba = 5; bytes = (233 ∷ 224 ∷ 0 ∷ 109 ∷ 60 ∷ 83 ∷ 255 ∷ 0 ∷ 0 ∷ 0 ∷ 9 ∷ 240 ∷ 23 ∷ 145 ∷ 0 ∷ 0 ∷ []) } ∷ record { target = 0; unit = 5; lba = 7; bytes = (145 ∷ 237 ∷ 47 ∷ 0 ∷ 142 ∷ 249 ∷ 143 ∷ 0 ∷ 26 ∷ 70 ∷ 0 ∷ 43 ∷ 0 ∷ 0 ∷ 0 ∷ 163 ∷ []) } ∷ [];
  tapes = [];
  loads = [];
  commands = record { host = 4; target = 0; unit = 5; at = 11481; tag = tags.Simple 255; cdb = (8 ∷ 0 ∷ 0 ∷ 3 ∷ 1 ∷ 0 ∷ []); payload = payloads.Nothing } ∷ record { host = 6; target = 0; unit = 5; at = 2289; tag = tags.Simple 1; cdb = (4 ∷ 0 ∷ 0 ∷ 0 ∷ 0 ∷ 0 ∷ []); payload = payloads.Nothing } ∷ record { host = 4; target = 0; unit = 5; at = 3238; tag = tags.Simple 2; cdb = (10 ∷ 0 ∷ 0 ∷ 6 ∷ 1 ∷ 0 ∷ []); payload = payloads.Hex (255 ∷ 0 ∷ 0 ∷ 79 ∷ 0 ∷ 145 ∷ 78 ∷ 0 ∷ 0 ∷ 255 ∷ 153 ∷ 201 ∷ 0 ∷ 0 ∷ 255 ∷ 255 ∷ []) } ∷ record { host = 4; target = 0; unit = 5; at = 13442; tag = tags.Untagged; cdb = (18 ∷ 0 ∷ 0 ∷ 0 ∷ 5 ∷ 0 ∷ []); payload = payloads.Nothing } ∷ record { host = 6; target = 0; unit = 5; at = 8041; tag = tags.Untagged; cdb = (40 ∷ 24 ∷ 0 ∷ 0 ∷ 0 ∷ 7 ∷ 0 ∷ 0 ∷ 1 ∷ 0 ∷ []); payload = payloads.Nothing } ∷ [];
  aborts = record { host = 1; target = 0; unit = 5; at = 105264; what = aborts.Device } ∷ record { host = 2; target = 0; unit = 5; at = 35104; what = aborts.All } ∷ [];
  resets = record { dev = 7; at = 114704 } ∷ record { dev = 3; at = 10145 } ∷ record { dev = 3; at = 182069 } ∷ [];
  faults = [];
}

abbrev pub aborts_and_resets_run_rows : List Row
aborts_and_resets_run_rows = drive 2389 6 0x00240 ∷ drive 4889 6 0x00640 ∷ drive 6189 6 0x10741 ∷ drive 6379 6 0x10541 ∷ drive 6879 0 0x00200 ∷ drive 7069 6 0x10000 ∷ drive 7169 0 0x02a00 ∷ drive 7669 0 0x06a00 ∷ drive 7769 6 0x101c5 ∷ drive 7924 6 0x181c5 ∷ drive 8024 0 0x02a00 ∷ drive 8124 6 0x10000 ∷ drive 8224 0 0x06a00 ∷ drive 8324 6 0x10020 ∷ drive 8479 6 0x18020 ∷ drive 8579 0 0x02a00 ∷ drive 8679 6 0x10000 ∷ drive 8779 0 0x06a00 ∷ drive 8879 6 0x10001 ∷ drive 9034 6 0x18001 ∷ drive 9134 0 0x02a00 ∷ drive 9234 6 0x10000 ∷ drive 9334 0 0x06a00 ∷ drive 9434 6 0x10001 ∷ drive 9589 6 0x18001 ∷ drive 9689 0 0x02a00 ∷ drive 9789 6 0x10000 ∷ drive 9889 0 0x06a00 ∷ drive 9989 6 0x10103 ∷ drive 10144 6 0x18103 ∷ drive 10145 3 0x20000 ∷ drive 10245 6 0x00000 ∷ drive 10245 0 0x00000 ∷ drive 35245 3 0x00000 ∷ drive 36545 6 0x00240 ∷ drive 36545 4 0x00210 ∷ drive 36545 2 0x00204 ∷ drive 39045 6 0x00640 ∷ drive 39145 4 0x00000 ∷ drive 39145 2 0x00000 ∷ drive 40345 6 0x10741 ∷ drive 40535 6 0x10541 ∷ drive 41035 0 0x00200 ∷ drive 41225 6 0x10000 ∷ drive 41325 0 0x02a00 ∷ drive 41825 0 0x06a00 ∷ drive 41925 6 0x001c5 ∷ drive 42115 6 0x081c5 ∷ drive 42215 0 0x02a00 ∷ drive 42315 6 0x00000 ∷ drive 42415 0 0x00a00 ∷ drive 42915 0 0x04a00 ∷ drive 43015 6 0x00128 ∷ drive 43170 6 0x08128 ∷ drive 43270 0 0x00a00 ∷ drive 43370 6 0x00000 ∷ drive 43470 0 0x04a00 ∷ drive 43570 6 0x00118 ∷ drive 43725 6 0x08118 ∷ drive 43825 0 0x00a00 ∷ drive 43925 6 0x00000 ∷ drive 44025 0 0x04a00 ∷ drive 44125 6 0x00100 ∷ drive 44280 6 0x08100 ∷ drive 44380 0 0x00a00 ∷ drive 44480 6 0x00000 ∷ drive 44580 0 0x04a00 ∷ drive 44680 6 0x00100 ∷ drive 44835 6 0x08100 ∷ drive 44935 0 0x00a00 ∷ drive 45035 6 0x00000 ∷ drive 45135 0 0x04a00 ∷ drive 45235 6 0x00100 ∷ drive 45390 6 0x08100 ∷ drive 45490 0 0x00a00 ∷ drive 45590 6 0x00000 ∷ drive 45690 0 0x04a00 ∷ drive 45790 6 0x00007 ∷ drive 45945 6 0x08007 ∷ drive 46045 0 0x00a00 ∷ drive 46145 6 0x00000 ∷ drive 46245 0 0x04a00 ∷ drive 46345 6 0x00100 ∷ drive 46500 6 0x08100 ∷ drive 46600 0 0x00a00 ∷ drive 46700 6 0x00000 ∷ drive 46800 0 0x04a00 ∷ drive 46900 6 0x00100 ∷ drive 47055 6 0x08100 ∷ drive 47155 0 0x00a00 ∷ drive 47255 6 0x00000 ∷ drive 47355 0 0x04a00 ∷ drive 47455 6 0x00001 ∷ drive 47610 6 0x08001 ∷ drive 47710 0 0x00a00 ∷ drive 47810 6 0x00000 ∷ drive 47910 0 0x04a00 ∷ drive 48010 6 0x00100 ∷ drive 48165 6 0x08100 ∷ drive 48265 0 0x00a00 ∷ drive 48365 6 0x00000 ∷ drive 48465 0 0x03a00 ∷ drive 49365 0 0x03a04 ∷ drive 49520 0 0x07a04 ∷ drive 49620 6 0x08000 ∷ drive 49720 0 0x03a00 ∷ drive 49820 6 0x00000 ∷ drive 49920 0 0x00000 ∷ drive 51220 4 0x00210 ∷ drive 51220 2 0x00204 ∷ drive 53720 4 0x00610 ∷ drive 53820 2 0x00000 ∷ drive 55020 4 0x10711 ∷ drive 55210 4 0x10511 ∷ drive 55710 0 0x00200 ∷ drive 55900 4 0x10000 ∷ drive 56000 0 0x02a00 ∷ drive 56500 0 0x06a00 ∷ drive 56600 4 0x101c5 ∷ drive 56755 4 0x181c5 ∷ drive 56855 0 0x02a00 ∷ drive 56955 4 0x10000 ∷ drive 57055 0 0x06a00 ∷ drive 57155 4 0x10020 ∷ drive 57310 4 0x18020 ∷ drive 57410 0 0x02a00 ∷ drive 57510 4 0x10000 ∷ drive 57610 0 0x06a00 ∷ drive 57710 4 0x001ff ∷ drive 57900 4 0x081ff ∷ drive 58000 0 0x02a00 ∷ drive 58100 4 0x00000 ∷ drive 58200 0 0x00a00 ∷ drive 58700 0 0x04a00 ∷ drive 58800 4 0x00008 ∷ drive 58955 4 0x08008 ∷ drive 59055 0 0x00a00 ∷ drive 59155 4 0x00000 ∷ drive 59255 0 0x04a00 ∷ drive 59355 4 0x00100 ∷ drive 59510 4 0x08100 ∷ drive 59610 0 0x00a00 ∷ drive 59710 4 0x00000 ∷ drive 59810 0 0x04a00 ∷ drive 59910 4 0x00100 ∷ drive 60065 4 0x08100 ∷ drive 60165 0 0x00a00 ∷ drive 60265 4 0x00000 ∷ drive 60365 0 0x04a00 ∷ drive 60465 4 0x00103 ∷ drive 60620 4 0x08103 ∷ drive 60720 0 0x00a00 ∷ drive 60820 4 0x00000 ∷ drive 60920 0 0x04a00 ∷ drive 61020 4 0x00001 ∷ drive 61175 4 0x08001 ∷ drive 61275 0 0x00a00 ∷ drive 61375 4 0x00000 ∷ drive 61475 0 0x04a00 ∷ drive 61575 4 0x00100 ∷ drive 61730 4 0x08100 ∷ drive 61830 0 0x00a00 ∷ drive 61930 4 0x00000 ∷ drive 62030 0 0x03a00 ∷ drive 62930 0 0x03a04 ∷ drive 63085 0 0x07a04 ∷ drive 63185 4 0x08000 ∷ drive 63285 0 0x03a00 ∷ drive 63385 4 0x00000 ∷ drive 63485 0 0x00000 ∷ drive 64785 4 0x00210 ∷ drive 64785 2 0x00204 ∷ drive 67285 4 0x00610 ∷ drive 67385 2 0x00000 ∷ drive 68585 4 0x10711 ∷ drive 68775 4 0x10511 ∷ drive 69275 0 0x00200 ∷ drive 69465 4 0x10000 ∷ drive 69565 0 0x02a00 ∷ drive 70065 0 0x06a00 ∷ drive 70165 4 0x101c5 ∷ drive 70320 4 0x181c5 ∷ drive 70420 0 0x02a00 ∷ drive 70520 4 0x10000 ∷ drive 70620 0 0x06a00 ∷ drive 70720 4 0x10020 ∷ drive 70875 4 0x18020 ∷ drive 70975 0 0x02a00 ∷ drive 71075 4 0x10000 ∷ drive 71175 0 0x06a00 ∷ drive 71275 4 0x00002 ∷ drive 71465 4 0x08002 ∷ drive 71565 0 0x02a00 ∷ drive 71665 4 0x00000 ∷ drive 71765 0 0x00a00 ∷ drive 72265 0 0x04a00 ∷ drive 72365 4 0x0010a ∷ drive 72520 4 0x0810a ∷ drive 72620 0 0x00a00 ∷ drive 72720 4 0x00000 ∷ drive 72820 0 0x04a00 ∷ drive 72920 4 0x00100 ∷ drive 73075 4 0x08100 ∷ drive 73175 0 0x00a00 ∷ drive 73275 4 0x00000 ∷ drive 73375 0 0x04a00 ∷ drive 73475 4 0x00100 ∷ drive 73630 4 0x08100 ∷ drive 73730 0 0x00a00 ∷ drive 73830 4 0x00000 ∷ drive 73930 0 0x04a00 ∷ drive 74030 4 0x00106 ∷ drive 74185 4 0x08106 ∷ drive 74285 0 0x00a00 ∷ drive 74385 4 0x00000 ∷ drive 74485 0 0x04a00 ∷ drive 74585 4 0x00001 ∷ drive 74740 4 0x08001 ∷ drive 74840 0 0x00a00 ∷ drive 74940 4 0x00000 ∷ drive 75040 0 0x04a00 ∷ drive 75140 4 0x00100 ∷ drive 75295 4 0x08100 ∷ drive 75395 0 0x00a00 ∷ drive 75495 4 0x00000 ∷ drive 75595 0 0x01a00 ∷ drive 76495 0 0x01b28 ∷ drive 76650 0 0x05b28 ∷ drive 76750 4 0x08000 ∷ drive 76850 0 0x01a00 ∷ drive 76950 4 0x00000 ∷ drive 77050 0 0x03b00 ∷ drive 77550 0 0x07b00 ∷ drive 77650 4 0x08000 ∷ drive 77750 0 0x03a00 ∷ drive 77850 4 0x00000 ∷ drive 77950 0 0x00000 ∷ drive 79250 2 0x00204 ∷ drive 79250 0 0x00201 ∷ drive 81750 2 0x00604 ∷ drive 81850 0 0x00000 ∷ drive 83050 2 0x10705 ∷ drive 83240 2 0x10505 ∷ drive 83740 0 0x00200 ∷ drive 83930 2 0x10000 ∷ drive 84030 0 0x02a00 ∷ drive 84530 0 0x06a00 ∷ drive 84630 2 0x10085 ∷ drive 84785 2 0x18085 ∷ drive 84885 0 0x02a00 ∷ drive 84985 2 0x10000 ∷ drive 85085 0 0x06a00 ∷ drive 85185 2 0x00106 ∷ drive 85375 2 0x08106 ∷ drive 85475 0 0x02a00 ∷ drive 85575 2 0x00000 ∷ drive 85675 0 0x00000 ∷ drive 86975 0 0x00201 ∷ drive 89475 0 0x00601 ∷ drive 90775 0 0x01741 ∷ drive 90965 0 0x01541 ∷ drive 91465 6 0x00200 ∷ drive 91565 0 0x01741 ∷ drive 91755 0 0x03a85 ∷ drive 91855 6 0x00000 ∷ drive 92255 0 0x07a85 ∷ drive 92355 6 0x08000 ∷ drive 92455 0 0x03a00 ∷ drive 92555 6 0x00000 ∷ drive 92655 0 0x01a02 ∷ drive 93155 0 0x05a02 ∷ drive 93255 6 0x08000 ∷ drive 93355 0 0x01a00 ∷ drive 93455 6 0x00000 ∷ drive 93555 0 0x03b00 ∷ drive 94055 0 0x07b00 ∷ drive 94155 6 0x08000 ∷ drive 94255 0 0x03a00 ∷ drive 94355 6 0x00000 ∷ drive 94455 0 0x00000 ∷ drive 95755 6 0x00240 ∷ drive 98255 6 0x00640 ∷ drive 99555 6 0x10741 ∷ drive 99745 6 0x10541 ∷ drive 100245 0 0x00200 ∷ drive 100435 6 0x10000 ∷ drive 100535 0 0x02a00 ∷ drive 101035 0 0x06a00 ∷ drive 101135 6 0x00085 ∷ drive 101325 6 0x08085 ∷ drive 101425 0 0x02a00 ∷ drive 101525 6 0x00000 ∷ drive 101625 0 0x00a00 ∷ drive 102125 0 0x04a00 ∷ drive 102225 6 0x00103 ∷ drive 102380 6 0x08103 ∷ drive 102480 0 0x00a00 ∷ drive 102580 6 0x00000 ∷ drive 102680 0 0x04a00 ∷ drive 102780 6 0x00100 ∷ drive 102935 6 0x08100 ∷ drive 103035 0 0x00a00 ∷ drive 103135 6 0x00000 ∷ drive 103235 0 0x04a00 ∷ drive 103335 6 0x00100 ∷ drive 103490 6 0x08100 ∷ drive 103590 0 0x00a00 ∷ drive 103690 6 0x00000 ∷ drive 103790 0 0x04a00 ∷ drive 103890 6 0x00100 ∷ drive 104045 6 0x08100 ∷ drive 104145 0 0x00a00 ∷ drive 104245 6 0x00000 ∷ drive 104345 0 0x04a00 ∷ drive 104445 6 0x00112 ∷ drive 104600 6 0x08112 ∷ drive 104700 0 0x00a00 ∷ drive 104800 6 0x00000 ∷ drive 104900 0 0x04a00 ∷ drive 105000 6 0x00100 ∷ drive 105155 6 0x08100 ∷ drive 105255 0 0x00a00 ∷ drive 105355 6 0x00000 ∷ drive 105455 0 0x01200 ∷ drive 106355 0 0x01270 ∷ drive 106510 0 0x05270 ∷ drive 106610 6 0x08000 ∷ drive 106710 0 0x01300 ∷ drive 106810 6 0x00000 ∷ drive 106910 0 0x05300 ∷ drive 107010 6 0x08000 ∷ drive 107110 0 0x01306 ∷ drive 107210 6 0x00000 ∷ drive 107310 0 0x05306 ∷ drive 107410 6 0x08000 ∷ drive 107510 0 0x01300 ∷ drive 107610 6 0x00000 ∷ drive 107710 0 0x05300 ∷ drive 107810 6 0x08000 ∷ drive 107910 0 0x01300 ∷ drive 108010 6 0x00000 ∷ drive 108110 0 0x05300 ∷ drive 108210 6 0x08000 ∷ drive 108310 0 0x01300 ∷ drive 108410 6 0x00000 ∷ drive 108510 0 0x05300 ∷ drive 108610 6 0x08000 ∷ drive 108710 0 0x01300 ∷ drive 108810 6 0x00000 ∷ drive 108910 0 0x05300 ∷ drive 109010 6 0x08000 ∷ drive 109110 0 0x0130a ∷ drive 109210 6 0x00000 ∷ drive 109310 0 0x0530a ∷ drive 109410 6 0x08000 ∷ drive 109510 0 0x01300 ∷ drive 109610 6 0x00000 ∷ drive 109710 0 0x05300 ∷ drive 109810 6 0x08000 ∷ drive 109910 0 0x01300 ∷ drive 110010 6 0x00000 ∷ drive 110110 0 0x05300 ∷ drive 110210 6 0x08000 ∷ drive 110310 0 0x01300 ∷ drive 110410 6 0x00000 ∷ drive 110510 0 0x05300 ∷ drive 110610 6 0x08000 ∷ drive 110710 0 0x01300 ∷ drive 110810 6 0x00000 ∷ drive 110910 0 0x05300 ∷ drive 111010 6 0x08000 ∷ drive 111110 0 0x01229 ∷ drive 111210 6 0x00000 ∷ drive 111310 0 0x05229 ∷ drive 111410 6 0x08000 ∷ drive 111510 0 0x01300 ∷ drive 111610 6 0x00000 ∷ drive 111710 0 0x05300 ∷ drive 111810 6 0x08000 ∷ drive 111910 0 0x01300 ∷ drive 112010 6 0x00000 ∷ drive 112110 0 0x05300 ∷ drive 112210 6 0x08000 ∷ drive 112310 0 0x01300 ∷ drive 112410 6 0x00000 ∷ drive 112510 0 0x05300 ∷ drive 112610 6 0x08000 ∷ drive 112710 0 0x01300 ∷ drive 112810 6 0x00000 ∷ drive 112910 0 0x05300 ∷ drive 113010 6 0x08000 ∷ drive 113110 0 0x01300 ∷ drive 113210 6 0x00000 ∷ drive 113310 0 0x05300 ∷ drive 113410 6 0x08000 ∷ drive 113510 0 0x01200 ∷ drive 113610 6 0x00000 ∷ drive 113710 0 0x01b00 ∷ drive 114210 0 0x05b00 ∷ drive 114310 6 0x08000 ∷ drive 114410 0 0x01a00 ∷ drive 114510 6 0x00000 ∷ drive 114610 0 0x03b00 ∷ drive 114704 7 0x20000 ∷ drive 114804 0 0x00000 ∷ drive 139804 7 0x00000 ∷ drive 141104 4 0x00210 ∷ drive 141104 1 0x00202 ∷ drive 143604 4 0x00610 ∷ drive 143704 1 0x00000 ∷ drive 144904 4 0x10711 ∷ drive 145094 4 0x10511 ∷ drive 145594 0 0x00200 ∷ drive 145784 4 0x10000 ∷ drive 145884 0 0x02a00 ∷ drive 146384 0 0x06a00 ∷ drive 146484 4 0x001c5 ∷ drive 146674 4 0x081c5 ∷ drive 146774 0 0x02a00 ∷ drive 146874 4 0x00000 ∷ drive 146974 0 0x00a00 ∷ drive 147474 0 0x04a00 ∷ drive 147574 4 0x00112 ∷ drive 147729 4 0x08112 ∷ drive 147829 0 0x00a00 ∷ drive 147929 4 0x00000 ∷ drive 148029 0 0x04a00 ∷ drive 148129 4 0x00100 ∷ drive 148284 4 0x08100 ∷ drive 148384 0 0x00a00 ∷ drive 148484 4 0x00000 ∷ drive 148584 0 0x04a00 ∷ drive 148684 4 0x00100 ∷ drive 148839 4 0x08100 ∷ drive 148939 0 0x00a00 ∷ drive 149039 4 0x00000 ∷ drive 149139 0 0x04a00 ∷ drive 149239 4 0x00100 ∷ drive 149394 4 0x08100 ∷ drive 149494 0 0x00a00 ∷ drive 149594 4 0x00000 ∷ drive 149694 0 0x04a00 ∷ drive 149794 4 0x00105 ∷ drive 149949 4 0x08105 ∷ drive 150049 0 0x00a00 ∷ drive 150149 4 0x00000 ∷ drive 150249 0 0x04a00 ∷ drive 150349 4 0x00100 ∷ drive 150504 4 0x08100 ∷ drive 150604 0 0x00a00 ∷ drive 150704 4 0x00000 ∷ drive 150804 0 0x03a00 ∷ drive 151704 0 0x03a04 ∷ drive 151859 0 0x07a04 ∷ drive 151959 4 0x08000 ∷ drive 152059 0 0x03a00 ∷ drive 152159 4 0x00000 ∷ drive 152259 0 0x00000 ∷ drive 153559 1 0x00202 ∷ drive 156059 1 0x00602 ∷ drive 157359 1 0x10703 ∷ drive 157549 1 0x10503 ∷ drive 158049 0 0x00200 ∷ drive 158239 1 0x10000 ∷ drive 158339 0 0x02a00 ∷ drive 158839 0 0x06a00 ∷ drive 158939 1 0x10085 ∷ drive 159094 1 0x18085 ∷ drive 159194 0 0x02a00 ∷ drive 159294 1 0x10000 ∷ drive 159394 0 0x06a00 ∷ drive 159494 1 0x0010c ∷ drive 159684 1 0x0810c ∷ drive 159784 0 0x02a00 ∷ drive 159884 1 0x00000 ∷ drive 159984 0 0x00000 ∷ drive 182069 3 0x20000 ∷ drive 207169 3 0x00000 ∷ []

abbrev aborts_and_resets_run_events : List Event
aborts_and_resets_run_events = events.Reset 3 ∷ events.Accept (command 5) ∷ events.Accept (command 1) ∷ events.Refuse (command 3) ∷ events.End (command 3) 40 ∷ events.Aborted 2 0 5 aborts.All ∷ events.Run (command 5) ∷ events.End (command 5) 2 ∷ events.Accept (sense 5) ∷ events.Run (sense 5) ∷ events.Reset 7 ∷ events.Accept (command 4) ∷ events.Aborted 1 0 5 aborts.Device ∷ events.Reset 3 ∷ []

aborts_and_resets_run_told : shown aborts_and_resets_run (story aborts_and_resets_run (reverse aborts_and_resets_run_rows)) (reverse aborts_and_resets_run_events) ≡ record { history = reverse aborts_and_resets_run_events; ends = Some (ended_reset) ∷ Some (ended_reset) ∷ Some (ended_full) ∷ Some (ended_aborted) ∷ Some (ended_check None) ∷ []; carried = true }
unfolding need_of sent_of ones union_below line_of form_out form_in
aborts_and_resets_run_told = refl

-- ---- all_run

abbrev all_run : ScenarioValue
all_run = record {
  version = 1;
  hosts = record { dev = 6; latency = 0; most = 8; retries = 2; period = 0; offset = 0; lag = 0; offers = true } ∷ record { dev = 7; latency = 0; most = 8; retries = 2; period = 0; offset = 0; lag = 0; offers = true } ∷ [];
  targets = record { dev = 0; latency = 0; retries = 2; disc = policies.Command; pick = picks.First; seek = 0; period = 0; offset = 0; begins = false } ∷ [];
  units = record { target = 0; unit = 0; blocks = 4; size = 16; depth = 8 } ∷ [];
  fills = [];
  tapes = [];
  loads = [];
  commands = record { host = 6; target = 0; unit = 0; at = 0; tag = tags.Untagged; cdb = (8 ∷ 0 ∷ 0 ∷ 9 ∷ 1 ∷ 0 ∷ []); payload = payloads.Nothing } ∷ record { host = 7; target = 0; unit = 0; at = 40000; tag = tags.Simple 2; cdb = (10 ∷ 0 ∷ 0 ∷ 1 ∷ 1 ∷ 0 ∷ []); payload = payloads.From 16 } ∷ record { host = 6; target = 0; unit = 0; at = 60000; tag = tags.Untagged; cdb = (3 ∷ 0 ∷ 0 ∷ 0 ∷ 18 ∷ 0 ∷ []); payload = payloads.Nothing } ∷ [];
  aborts = record { host = 6; target = 0; unit = 0; at = 14000; what = aborts.All } ∷ [];
  resets = [];
  faults = [];
}

abbrev pub all_run_rows : List Row
all_run_rows = drive 1200 6 0x00240 ∷ drive 3600 6 0x00640 ∷ drive 4800 6 0x10741 ∷ drive 4890 6 0x10541 ∷ drive 5290 0 0x00200 ∷ drive 5380 6 0x10000 ∷ drive 5380 0 0x02a00 ∷ drive 5780 0 0x06a00 ∷ drive 5780 6 0x001c0 ∷ drive 5870 6 0x081c0 ∷ drive 5870 0 0x02a00 ∷ drive 5870 6 0x00000 ∷ drive 5870 0 0x00a00 ∷ drive 6270 0 0x04a00 ∷ drive 6270 6 0x00008 ∷ drive 6325 6 0x08008 ∷ drive 6325 0 0x00a00 ∷ drive 6325 6 0x00000 ∷ drive 6325 0 0x04a00 ∷ drive 6325 6 0x00100 ∷ drive 6380 6 0x08100 ∷ drive 6380 0 0x00a00 ∷ drive 6380 6 0x00000 ∷ drive 6380 0 0x04a00 ∷ drive 6380 6 0x00100 ∷ drive 6435 6 0x08100 ∷ drive 6435 0 0x00a00 ∷ drive 6435 6 0x00000 ∷ drive 6435 0 0x04a00 ∷ drive 6435 6 0x00109 ∷ drive 6490 6 0x08109 ∷ drive 6490 0 0x00a00 ∷ drive 6490 6 0x00000 ∷ drive 6490 0 0x04a00 ∷ drive 6490 6 0x00001 ∷ drive 6545 6 0x08001 ∷ drive 6545 0 0x00a00 ∷ drive 6545 6 0x00000 ∷ drive 6545 0 0x04a00 ∷ drive 6545 6 0x00100 ∷ drive 6600 6 0x08100 ∷ drive 6600 0 0x00a00 ∷ drive 6600 6 0x00000 ∷ drive 6600 0 0x03a00 ∷ drive 7400 0 0x03a04 ∷ drive 7455 0 0x07a04 ∷ drive 7455 6 0x08000 ∷ drive 7455 0 0x03a00 ∷ drive 7455 6 0x00000 ∷ drive 7455 0 0x00000 ∷ drive 8655 0 0x00201 ∷ drive 11055 0 0x00601 ∷ drive 12255 0 0x01741 ∷ drive 12345 0 0x01541 ∷ drive 12745 6 0x00200 ∷ drive 12745 0 0x01741 ∷ drive 12835 0 0x03a80 ∷ drive 12835 6 0x00000 ∷ drive 13235 0 0x07a80 ∷ drive 13235 6 0x08000 ∷ drive 13235 0 0x03a00 ∷ drive 13235 6 0x00000 ∷ drive 13235 0 0x01a02 ∷ drive 13635 0 0x05a02 ∷ drive 13635 6 0x08000 ∷ drive 13635 0 0x01a00 ∷ drive 13635 6 0x00000 ∷ drive 13635 0 0x03b00 ∷ drive 14035 0 0x07b00 ∷ drive 14035 6 0x08000 ∷ drive 14035 0 0x03a00 ∷ drive 14035 6 0x00000 ∷ drive 14035 0 0x00000 ∷ drive 15235 6 0x00240 ∷ drive 17635 6 0x00640 ∷ drive 18835 6 0x10741 ∷ drive 18925 6 0x10541 ∷ drive 19325 0 0x00200 ∷ drive 19415 6 0x10000 ∷ drive 19415 0 0x02a00 ∷ drive 19815 0 0x06a00 ∷ drive 19815 6 0x10080 ∷ drive 19870 6 0x18080 ∷ drive 19870 0 0x02a00 ∷ drive 19870 6 0x10000 ∷ drive 19870 0 0x06a00 ∷ drive 19870 6 0x00106 ∷ drive 19960 6 0x08106 ∷ drive 19960 0 0x02a00 ∷ drive 19960 6 0x00000 ∷ drive 19960 0 0x00000 ∷ drive 40000 7 0x00280 ∷ drive 42400 7 0x00680 ∷ drive 43600 7 0x10781 ∷ drive 43690 7 0x10581 ∷ drive 44090 0 0x00200 ∷ drive 44180 7 0x10000 ∷ drive 44180 0 0x02a00 ∷ drive 44580 0 0x06a00 ∷ drive 44580 7 0x101c0 ∷ drive 44635 7 0x181c0 ∷ drive 44635 0 0x02a00 ∷ drive 44635 7 0x10000 ∷ drive 44635 0 0x06a00 ∷ drive 44635 7 0x10020 ∷ drive 44690 7 0x18020 ∷ drive 44690 0 0x02a00 ∷ drive 44690 7 0x10000 ∷ drive 44690 0 0x06a00 ∷ drive 44690 7 0x00002 ∷ drive 44780 7 0x08002 ∷ drive 44780 0 0x02a00 ∷ drive 44780 7 0x00000 ∷ drive 44780 0 0x00a00 ∷ drive 45180 0 0x04a00 ∷ drive 45180 7 0x0010a ∷ drive 45235 7 0x0810a ∷ drive 45235 0 0x00a00 ∷ drive 45235 7 0x00000 ∷ drive 45235 0 0x04a00 ∷ drive 45235 7 0x00100 ∷ drive 45290 7 0x08100 ∷ drive 45290 0 0x00a00 ∷ drive 45290 7 0x00000 ∷ drive 45290 0 0x04a00 ∷ drive 45290 7 0x00100 ∷ drive 45345 7 0x08100 ∷ drive 45345 0 0x00a00 ∷ drive 45345 7 0x00000 ∷ drive 45345 0 0x04a00 ∷ drive 45345 7 0x00001 ∷ drive 45400 7 0x08001 ∷ drive 45400 0 0x00a00 ∷ drive 45400 7 0x00000 ∷ drive 45400 0 0x04a00 ∷ drive 45400 7 0x00001 ∷ drive 45455 7 0x08001 ∷ drive 45455 0 0x00a00 ∷ drive 45455 7 0x00000 ∷ drive 45455 0 0x04a00 ∷ drive 45455 7 0x00100 ∷ drive 45510 7 0x08100 ∷ drive 45510 0 0x00a00 ∷ drive 45510 7 0x00000 ∷ drive 45510 0 0x03a00 ∷ drive 46310 0 0x03a04 ∷ drive 46365 0 0x07a04 ∷ drive 46365 7 0x08000 ∷ drive 46365 0 0x03a00 ∷ drive 46365 7 0x00000 ∷ drive 46365 0 0x00000 ∷ drive 47565 0 0x00201 ∷ drive 49965 0 0x00601 ∷ drive 51165 0 0x01781 ∷ drive 51255 0 0x01581 ∷ drive 51655 7 0x00200 ∷ drive 51655 0 0x01781 ∷ drive 51745 0 0x03a80 ∷ drive 51745 7 0x00000 ∷ drive 52145 0 0x07a80 ∷ drive 52145 7 0x08000 ∷ drive 52145 0 0x03a20 ∷ drive 52145 7 0x00000 ∷ drive 52200 0 0x07a20 ∷ drive 52200 7 0x08000 ∷ drive 52200 0 0x03a02 ∷ drive 52200 7 0x00000 ∷ drive 52255 0 0x07a02 ∷ drive 52255 7 0x08000 ∷ drive 52255 0 0x03a00 ∷ drive 52255 7 0x00000 ∷ drive 52255 0 0x00200 ∷ drive 52655 0 0x04200 ∷ drive 52655 7 0x00010 ∷ drive 52710 7 0x08010 ∷ drive 52710 0 0x00200 ∷ drive 52710 7 0x00000 ∷ drive 52710 0 0x04200 ∷ drive 52710 7 0x00111 ∷ drive 52765 7 0x08111 ∷ drive 52765 0 0x00200 ∷ drive 52765 7 0x00000 ∷ drive 52765 0 0x04200 ∷ drive 52765 7 0x00112 ∷ drive 52820 7 0x08112 ∷ drive 52820 0 0x00200 ∷ drive 52820 7 0x00000 ∷ drive 52820 0 0x04200 ∷ drive 52820 7 0x00013 ∷ drive 52875 7 0x08013 ∷ drive 52875 0 0x00200 ∷ drive 52875 7 0x00000 ∷ drive 52875 0 0x04200 ∷ drive 52875 7 0x00114 ∷ drive 52930 7 0x08114 ∷ drive 52930 0 0x00200 ∷ drive 52930 7 0x00000 ∷ drive 52930 0 0x04200 ∷ drive 52930 7 0x00015 ∷ drive 52985 7 0x08015 ∷ drive 52985 0 0x00200 ∷ drive 52985 7 0x00000 ∷ drive 52985 0 0x04200 ∷ drive 52985 7 0x00016 ∷ drive 53040 7 0x08016 ∷ drive 53040 0 0x00200 ∷ drive 53040 7 0x00000 ∷ drive 53040 0 0x04200 ∷ drive 53040 7 0x00117 ∷ drive 53095 7 0x08117 ∷ drive 53095 0 0x00200 ∷ drive 53095 7 0x00000 ∷ drive 53095 0 0x04200 ∷ drive 53095 7 0x00118 ∷ drive 53150 7 0x08118 ∷ drive 53150 0 0x00200 ∷ drive 53150 7 0x00000 ∷ drive 53150 0 0x04200 ∷ drive 53150 7 0x00019 ∷ drive 53205 7 0x08019 ∷ drive 53205 0 0x00200 ∷ drive 53205 7 0x00000 ∷ drive 53205 0 0x04200 ∷ drive 53205 7 0x0001a ∷ drive 53260 7 0x0801a ∷ drive 53260 0 0x00200 ∷ drive 53260 7 0x00000 ∷ drive 53260 0 0x04200 ∷ drive 53260 7 0x0011b ∷ drive 53315 7 0x0811b ∷ drive 53315 0 0x00200 ∷ drive 53315 7 0x00000 ∷ drive 53315 0 0x04200 ∷ drive 53315 7 0x0001c ∷ drive 53370 7 0x0801c ∷ drive 53370 0 0x00200 ∷ drive 53370 7 0x00000 ∷ drive 53370 0 0x04200 ∷ drive 53370 7 0x0011d ∷ drive 53425 7 0x0811d ∷ drive 53425 0 0x00200 ∷ drive 53425 7 0x00000 ∷ drive 53425 0 0x04200 ∷ drive 53425 7 0x0011e ∷ drive 53480 7 0x0811e ∷ drive 53480 0 0x00200 ∷ drive 53480 7 0x00000 ∷ drive 53480 0 0x04200 ∷ drive 53480 7 0x0001f ∷ drive 53535 7 0x0801f ∷ drive 53535 0 0x00200 ∷ drive 53535 7 0x00000 ∷ drive 53535 0 0x01a00 ∷ drive 54335 0 0x01b00 ∷ drive 54390 0 0x05b00 ∷ drive 54390 7 0x08000 ∷ drive 54390 0 0x01a00 ∷ drive 54390 7 0x00000 ∷ drive 54390 0 0x03b00 ∷ drive 54790 0 0x07b00 ∷ drive 54790 7 0x08000 ∷ drive 54790 0 0x03a00 ∷ drive 54790 7 0x00000 ∷ drive 54790 0 0x00000 ∷ drive 60000 6 0x00240 ∷ drive 62400 6 0x00640 ∷ drive 63600 6 0x10741 ∷ drive 63690 6 0x10541 ∷ drive 64090 0 0x00200 ∷ drive 64180 6 0x10000 ∷ drive 64180 0 0x02a00 ∷ drive 64580 0 0x06a00 ∷ drive 64580 6 0x001c0 ∷ drive 64670 6 0x081c0 ∷ drive 64670 0 0x02a00 ∷ drive 64670 6 0x00000 ∷ drive 64670 0 0x00a00 ∷ drive 65070 0 0x04a00 ∷ drive 65070 6 0x00103 ∷ drive 65125 6 0x08103 ∷ drive 65125 0 0x00a00 ∷ drive 65125 6 0x00000 ∷ drive 65125 0 0x04a00 ∷ drive 65125 6 0x00100 ∷ drive 65180 6 0x08100 ∷ drive 65180 0 0x00a00 ∷ drive 65180 6 0x00000 ∷ drive 65180 0 0x04a00 ∷ drive 65180 6 0x00100 ∷ drive 65235 6 0x08100 ∷ drive 65235 0 0x00a00 ∷ drive 65235 6 0x00000 ∷ drive 65235 0 0x04a00 ∷ drive 65235 6 0x00100 ∷ drive 65290 6 0x08100 ∷ drive 65290 0 0x00a00 ∷ drive 65290 6 0x00000 ∷ drive 65290 0 0x04a00 ∷ drive 65290 6 0x00112 ∷ drive 65345 6 0x08112 ∷ drive 65345 0 0x00a00 ∷ drive 65345 6 0x00000 ∷ drive 65345 0 0x04a00 ∷ drive 65345 6 0x00100 ∷ drive 65400 6 0x08100 ∷ drive 65400 0 0x00a00 ∷ drive 65400 6 0x00000 ∷ drive 65400 0 0x01200 ∷ drive 66200 0 0x01270 ∷ drive 66255 0 0x05270 ∷ drive 66255 6 0x08000 ∷ drive 66255 0 0x01300 ∷ drive 66255 6 0x00000 ∷ drive 66310 0 0x05300 ∷ drive 66310 6 0x08000 ∷ drive 66310 0 0x01300 ∷ drive 66310 6 0x00000 ∷ drive 66365 0 0x05300 ∷ drive 66365 6 0x08000 ∷ drive 66365 0 0x01300 ∷ drive 66365 6 0x00000 ∷ drive 66420 0 0x05300 ∷ drive 66420 6 0x08000 ∷ drive 66420 0 0x01300 ∷ drive 66420 6 0x00000 ∷ drive 66475 0 0x05300 ∷ drive 66475 6 0x08000 ∷ drive 66475 0 0x01300 ∷ drive 66475 6 0x00000 ∷ drive 66530 0 0x05300 ∷ drive 66530 6 0x08000 ∷ drive 66530 0 0x01300 ∷ drive 66530 6 0x00000 ∷ drive 66585 0 0x05300 ∷ drive 66585 6 0x08000 ∷ drive 66585 0 0x0130a ∷ drive 66585 6 0x00000 ∷ drive 66640 0 0x0530a ∷ drive 66640 6 0x08000 ∷ drive 66640 0 0x01300 ∷ drive 66640 6 0x00000 ∷ drive 66695 0 0x05300 ∷ drive 66695 6 0x08000 ∷ drive 66695 0 0x01300 ∷ drive 66695 6 0x00000 ∷ drive 66750 0 0x05300 ∷ drive 66750 6 0x08000 ∷ drive 66750 0 0x01300 ∷ drive 66750 6 0x00000 ∷ drive 66805 0 0x05300 ∷ drive 66805 6 0x08000 ∷ drive 66805 0 0x01300 ∷ drive 66805 6 0x00000 ∷ drive 66860 0 0x05300 ∷ drive 66860 6 0x08000 ∷ drive 66860 0 0x01300 ∷ drive 66860 6 0x00000 ∷ drive 66915 0 0x05300 ∷ drive 66915 6 0x08000 ∷ drive 66915 0 0x01300 ∷ drive 66915 6 0x00000 ∷ drive 66970 0 0x05300 ∷ drive 66970 6 0x08000 ∷ drive 66970 0 0x01300 ∷ drive 66970 6 0x00000 ∷ drive 67025 0 0x05300 ∷ drive 67025 6 0x08000 ∷ drive 67025 0 0x01300 ∷ drive 67025 6 0x00000 ∷ drive 67080 0 0x05300 ∷ drive 67080 6 0x08000 ∷ drive 67080 0 0x01300 ∷ drive 67080 6 0x00000 ∷ drive 67135 0 0x05300 ∷ drive 67135 6 0x08000 ∷ drive 67135 0 0x01300 ∷ drive 67135 6 0x00000 ∷ drive 67190 0 0x05300 ∷ drive 67190 6 0x08000 ∷ drive 67190 0 0x01200 ∷ drive 67190 6 0x00000 ∷ drive 67190 0 0x01b00 ∷ drive 67590 0 0x05b00 ∷ drive 67590 6 0x08000 ∷ drive 67590 0 0x01a00 ∷ drive 67590 6 0x00000 ∷ drive 67590 0 0x03b00 ∷ drive 67990 0 0x07b00 ∷ drive 67990 6 0x08000 ∷ drive 67990 0 0x03a00 ∷ drive 67990 6 0x00000 ∷ drive 67990 0 0x00000 ∷ []

abbrev all_run_events : List Event
all_run_events = events.Accept (command 1) ∷ events.Run (command 1) ∷ events.End (command 1) 2 ∷ events.Aborted 6 0 0 aborts.All ∷ events.Accept (command 2) ∷ events.Run (command 2) ∷ events.End (command 2) 0 ∷ events.Accept (command 3) ∷ events.Run (command 3) ∷ events.End (command 3) 0 ∷ []

all_run_told : shown all_run (story all_run (reverse all_run_rows)) (reverse all_run_events) ≡ record { history = reverse all_run_events; ends = Some (ended_check None) ∷ Some (ended_good ([])) ∷ Some (ended_good (112 ∷ 0 ∷ 0 ∷ 0 ∷ 0 ∷ 0 ∷ 0 ∷ 10 ∷ 0 ∷ 0 ∷ 0 ∷ 0 ∷ 0 ∷ 0 ∷ 0 ∷ 0 ∷ 0 ∷ 0 ∷ [])) ∷ []; carried = true }
unfolding need_of sent_of ones union_below line_of form_out form_in
all_run_told = refl

-- ---- called_again_for_sense_run

abbrev called_again_for_sense_run : ScenarioValue
called_again_for_sense_run = record {
  version = 1;
  hosts = record { dev = 7; latency = 0; most = 1; retries = 0; period = 0; offset = 0; lag = 0; offers = true } ∷ [];
  targets = record { dev = 0; latency = 2; retries = 2; disc = policies.Never; pick = picks.First; seek = 0; period = 0; offset = 0; begins = false } ∷ [];
  units = record { target = 0; unit = 0; blocks = 1; size = 16; depth = 1 } ∷ [];
  fills = [];
  tapes = [];
  loads = [];
  commands = record { host = 7; target = 0; unit = 0; at = 0; tag = tags.Untagged; cdb = (8 ∷ 0 ∷ 0 ∷ 1 ∷ 1 ∷ 0 ∷ []); payload = payloads.Nothing } ∷ [];
  aborts = [];
  resets = [];
  faults = record { at = 12000; bit = 0 } ∷ [];
}

abbrev pub called_again_for_sense_run_rows : List Row
called_again_for_sense_run_rows = drive 1200 7 0x00280 ∷ drive 3600 7 0x00680 ∷ drive 4800 7 0x10781 ∷ drive 4890 7 0x10581 ∷ drive 5292 0 0x00200 ∷ drive 5382 7 0x10000 ∷ drive 5384 0 0x02a00 ∷ drive 5786 0 0x06a00 ∷ drive 5786 7 0x001c0 ∷ drive 5876 7 0x081c0 ∷ drive 5878 0 0x02a00 ∷ drive 5878 7 0x00000 ∷ drive 5880 0 0x00a00 ∷ drive 6282 0 0x04a00 ∷ drive 6282 7 0x00008 ∷ drive 6337 7 0x08008 ∷ drive 6339 0 0x00a00 ∷ drive 6339 7 0x00000 ∷ drive 6341 0 0x04a00 ∷ drive 6341 7 0x00100 ∷ drive 6396 7 0x08100 ∷ drive 6398 0 0x00a00 ∷ drive 6398 7 0x00000 ∷ drive 6400 0 0x04a00 ∷ drive 6400 7 0x00100 ∷ drive 6455 7 0x08100 ∷ drive 6457 0 0x00a00 ∷ drive 6457 7 0x00000 ∷ drive 6459 0 0x04a00 ∷ drive 6459 7 0x00001 ∷ drive 6514 7 0x08001 ∷ drive 6516 0 0x00a00 ∷ drive 6516 7 0x00000 ∷ drive 6518 0 0x04a00 ∷ drive 6518 7 0x00001 ∷ drive 6573 7 0x08001 ∷ drive 6575 0 0x00a00 ∷ drive 6575 7 0x00000 ∷ drive 6577 0 0x04a00 ∷ drive 6577 7 0x00100 ∷ drive 6632 7 0x08100 ∷ drive 6634 0 0x00a00 ∷ drive 6634 7 0x00000 ∷ drive 6636 0 0x01a00 ∷ drive 7438 0 0x01a02 ∷ drive 7495 0 0x05a02 ∷ drive 7495 7 0x08000 ∷ drive 7497 0 0x01a00 ∷ drive 7497 7 0x00000 ∷ drive 7499 0 0x03b00 ∷ drive 7901 0 0x07b00 ∷ drive 7901 7 0x08000 ∷ drive 7903 0 0x03a00 ∷ drive 7903 7 0x00000 ∷ drive 7905 0 0x00000 ∷ drive 9105 7 0x00280 ∷ drive 11505 7 0x00680 ∷ drive 12705 7 0x10781 ∷ drive 12795 7 0x10581 ∷ strike 13197 0 0 ∷ drive 250012795 7 0x10400 ∷ drive 250212885 7 0x00000 ∷ drive 250214085 7 0x00280 ∷ drive 250216485 7 0x00680 ∷ drive 250217685 7 0x10781 ∷ drive 250217775 7 0x10581 ∷ drive 250218177 0 0x00200 ∷ drive 250218267 7 0x10000 ∷ drive 250218269 0 0x02a00 ∷ drive 250218671 0 0x06a00 ∷ drive 250218671 7 0x00080 ∷ drive 250218761 7 0x08080 ∷ drive 250218763 0 0x02a00 ∷ drive 250218763 7 0x00000 ∷ drive 250218765 0 0x00a00 ∷ drive 250219167 0 0x04a00 ∷ drive 250219167 7 0x00103 ∷ drive 250219222 7 0x08103 ∷ drive 250219224 0 0x00a00 ∷ drive 250219224 7 0x00000 ∷ drive 250219226 0 0x04a00 ∷ drive 250219226 7 0x00100 ∷ drive 250219281 7 0x08100 ∷ drive 250219283 0 0x00a00 ∷ drive 250219283 7 0x00000 ∷ drive 250219285 0 0x04a00 ∷ drive 250219285 7 0x00100 ∷ drive 250219340 7 0x08100 ∷ drive 250219342 0 0x00a00 ∷ drive 250219342 7 0x00000 ∷ drive 250219344 0 0x04a00 ∷ drive 250219344 7 0x00100 ∷ drive 250219399 7 0x08100 ∷ drive 250219401 0 0x00a00 ∷ drive 250219401 7 0x00000 ∷ drive 250219403 0 0x04a00 ∷ drive 250219403 7 0x00112 ∷ drive 250219458 7 0x08112 ∷ drive 250219460 0 0x00a00 ∷ drive 250219460 7 0x00000 ∷ drive 250219462 0 0x04a00 ∷ drive 250219462 7 0x00100 ∷ drive 250219517 7 0x08100 ∷ drive 250219519 0 0x00a00 ∷ drive 250219519 7 0x00000 ∷ drive 250219521 0 0x01200 ∷ drive 250220323 0 0x01270 ∷ drive 250220380 0 0x05270 ∷ drive 250220380 7 0x08000 ∷ drive 250220382 0 0x01300 ∷ drive 250220382 7 0x00000 ∷ drive 250220439 0 0x05300 ∷ drive 250220439 7 0x08000 ∷ drive 250220441 0 0x01305 ∷ drive 250220441 7 0x00000 ∷ drive 250220498 0 0x05305 ∷ drive 250220498 7 0x08000 ∷ drive 250220500 0 0x01300 ∷ drive 250220500 7 0x00000 ∷ drive 250220557 0 0x05300 ∷ drive 250220557 7 0x08000 ∷ drive 250220559 0 0x01300 ∷ drive 250220559 7 0x00000 ∷ drive 250220616 0 0x05300 ∷ drive 250220616 7 0x08000 ∷ drive 250220618 0 0x01300 ∷ drive 250220618 7 0x00000 ∷ drive 250220675 0 0x05300 ∷ drive 250220675 7 0x08000 ∷ drive 250220677 0 0x01300 ∷ drive 250220677 7 0x00000 ∷ drive 250220734 0 0x05300 ∷ drive 250220734 7 0x08000 ∷ drive 250220736 0 0x0130a ∷ drive 250220736 7 0x00000 ∷ drive 250220793 0 0x0530a ∷ drive 250220793 7 0x08000 ∷ drive 250220795 0 0x01300 ∷ drive 250220795 7 0x00000 ∷ drive 250220852 0 0x05300 ∷ drive 250220852 7 0x08000 ∷ drive 250220854 0 0x01300 ∷ drive 250220854 7 0x00000 ∷ drive 250220911 0 0x05300 ∷ drive 250220911 7 0x08000 ∷ drive 250220913 0 0x01300 ∷ drive 250220913 7 0x00000 ∷ drive 250220970 0 0x05300 ∷ drive 250220970 7 0x08000 ∷ drive 250220972 0 0x01300 ∷ drive 250220972 7 0x00000 ∷ drive 250221029 0 0x05300 ∷ drive 250221029 7 0x08000 ∷ drive 250221031 0 0x01321 ∷ drive 250221031 7 0x00000 ∷ drive 250221088 0 0x05321 ∷ drive 250221088 7 0x08000 ∷ drive 250221090 0 0x01300 ∷ drive 250221090 7 0x00000 ∷ drive 250221147 0 0x05300 ∷ drive 250221147 7 0x08000 ∷ drive 250221149 0 0x01300 ∷ drive 250221149 7 0x00000 ∷ drive 250221206 0 0x05300 ∷ drive 250221206 7 0x08000 ∷ drive 250221208 0 0x01300 ∷ drive 250221208 7 0x00000 ∷ drive 250221265 0 0x05300 ∷ drive 250221265 7 0x08000 ∷ drive 250221267 0 0x01300 ∷ drive 250221267 7 0x00000 ∷ drive 250221324 0 0x05300 ∷ drive 250221324 7 0x08000 ∷ drive 250221326 0 0x01300 ∷ drive 250221326 7 0x00000 ∷ drive 250221383 0 0x05300 ∷ drive 250221383 7 0x08000 ∷ drive 250221385 0 0x01200 ∷ drive 250221385 7 0x00000 ∷ drive 250221387 0 0x01b00 ∷ drive 250221789 0 0x05b00 ∷ drive 250221789 7 0x08000 ∷ drive 250221791 0 0x01a00 ∷ drive 250221791 7 0x00000 ∷ drive 250221793 0 0x03b00 ∷ drive 250222195 0 0x07b00 ∷ drive 250222195 7 0x08000 ∷ drive 250222197 0 0x03a00 ∷ drive 250222197 7 0x00000 ∷ drive 250222199 0 0x00000 ∷ []

abbrev called_again_for_sense_run_events : List Event
called_again_for_sense_run_events = events.Accept (command 1) ∷ events.Run (command 1) ∷ events.End (command 1) 2 ∷ events.Accept (sense 1) ∷ events.Run (sense 1) ∷ events.End (sense 1) 0 ∷ []

called_again_for_sense_run_told : shown called_again_for_sense_run (story called_again_for_sense_run (reverse called_again_for_sense_run_rows)) (reverse called_again_for_sense_run_events) ≡ record { history = reverse called_again_for_sense_run_events; ends = Some (ended_check (Some (sense_of 5 33 0))) ∷ []; carried = true }
unfolding need_of sent_of ones union_below line_of form_out form_in
called_again_for_sense_run_told = refl

called_again_for_sense_run_struck : expected_strikes called_again_for_sense_run (reverse called_again_for_sense_run_rows) ≡ row_strikes called_again_for_sense_run_rows
unfolding need_of sent_of ones union_below line_of form_out form_in
called_again_for_sense_run_struck = refl

-- ---- capacity_of_the_largest_run

abbrev capacity_of_the_largest_run : ScenarioValue
capacity_of_the_largest_run = record {
  version = 1;
  hosts = record { dev = 7; latency = 0; most = 1; retries = 2; period = 0; offset = 0; lag = 0; offers = true } ∷ [];
  targets = record { dev = 0; latency = 0; retries = 2; disc = policies.Never; pick = picks.First; seek = 0; period = 0; offset = 0; begins = false } ∷ [];
  units = record { target = 0; unit = 0; blocks = 4294967296; size = 512; depth = 1 } ∷ [];
  fills = [];
  tapes = [];
  loads = [];
  commands = record { host = 7; target = 0; unit = 0; at = 0; tag = tags.Untagged; cdb = (37 ∷ 0 ∷ 0 ∷ 0 ∷ 0 ∷ 0 ∷ 0 ∷ 0 ∷ 0 ∷ 0 ∷ []); payload = payloads.Nothing } ∷ [];
  aborts = [];
  resets = [];
  faults = [];
}

abbrev pub capacity_of_the_largest_run_rows : List Row
capacity_of_the_largest_run_rows = drive 1200 7 0x00280 ∷ drive 3600 7 0x00680 ∷ drive 4800 7 0x10781 ∷ drive 4890 7 0x10581 ∷ drive 5290 0 0x00200 ∷ drive 5380 7 0x10000 ∷ drive 5380 0 0x02a00 ∷ drive 5780 0 0x06a00 ∷ drive 5780 7 0x001c0 ∷ drive 5870 7 0x081c0 ∷ drive 5870 0 0x02a00 ∷ drive 5870 7 0x00000 ∷ drive 5870 0 0x00a00 ∷ drive 6270 0 0x04a00 ∷ drive 6270 7 0x00025 ∷ drive 6325 7 0x08025 ∷ drive 6325 0 0x00a00 ∷ drive 6325 7 0x00000 ∷ drive 6325 0 0x04a00 ∷ drive 6325 7 0x00100 ∷ drive 6380 7 0x08100 ∷ drive 6380 0 0x00a00 ∷ drive 6380 7 0x00000 ∷ drive 6380 0 0x04a00 ∷ drive 6380 7 0x00100 ∷ drive 6435 7 0x08100 ∷ drive 6435 0 0x00a00 ∷ drive 6435 7 0x00000 ∷ drive 6435 0 0x04a00 ∷ drive 6435 7 0x00100 ∷ drive 6490 7 0x08100 ∷ drive 6490 0 0x00a00 ∷ drive 6490 7 0x00000 ∷ drive 6490 0 0x04a00 ∷ drive 6490 7 0x00100 ∷ drive 6545 7 0x08100 ∷ drive 6545 0 0x00a00 ∷ drive 6545 7 0x00000 ∷ drive 6545 0 0x04a00 ∷ drive 6545 7 0x00100 ∷ drive 6600 7 0x08100 ∷ drive 6600 0 0x00a00 ∷ drive 6600 7 0x00000 ∷ drive 6600 0 0x04a00 ∷ drive 6600 7 0x00100 ∷ drive 6655 7 0x08100 ∷ drive 6655 0 0x00a00 ∷ drive 6655 7 0x00000 ∷ drive 6655 0 0x04a00 ∷ drive 6655 7 0x00100 ∷ drive 6710 7 0x08100 ∷ drive 6710 0 0x00a00 ∷ drive 6710 7 0x00000 ∷ drive 6710 0 0x04a00 ∷ drive 6710 7 0x00100 ∷ drive 6765 7 0x08100 ∷ drive 6765 0 0x00a00 ∷ drive 6765 7 0x00000 ∷ drive 6765 0 0x04a00 ∷ drive 6765 7 0x00100 ∷ drive 6820 7 0x08100 ∷ drive 6820 0 0x00a00 ∷ drive 6820 7 0x00000 ∷ drive 6820 0 0x01200 ∷ drive 7620 0 0x013ff ∷ drive 7675 0 0x053ff ∷ drive 7675 7 0x08000 ∷ drive 7675 0 0x013ff ∷ drive 7675 7 0x00000 ∷ drive 7730 0 0x053ff ∷ drive 7730 7 0x08000 ∷ drive 7730 0 0x013ff ∷ drive 7730 7 0x00000 ∷ drive 7785 0 0x053ff ∷ drive 7785 7 0x08000 ∷ drive 7785 0 0x013ff ∷ drive 7785 7 0x00000 ∷ drive 7840 0 0x053ff ∷ drive 7840 7 0x08000 ∷ drive 7840 0 0x01300 ∷ drive 7840 7 0x00000 ∷ drive 7895 0 0x05300 ∷ drive 7895 7 0x08000 ∷ drive 7895 0 0x01300 ∷ drive 7895 7 0x00000 ∷ drive 7950 0 0x05300 ∷ drive 7950 7 0x08000 ∷ drive 7950 0 0x01202 ∷ drive 7950 7 0x00000 ∷ drive 8005 0 0x05202 ∷ drive 8005 7 0x08000 ∷ drive 8005 0 0x01300 ∷ drive 8005 7 0x00000 ∷ drive 8060 0 0x05300 ∷ drive 8060 7 0x08000 ∷ drive 8060 0 0x01200 ∷ drive 8060 7 0x00000 ∷ drive 8060 0 0x01b00 ∷ drive 8460 0 0x05b00 ∷ drive 8460 7 0x08000 ∷ drive 8460 0 0x01a00 ∷ drive 8460 7 0x00000 ∷ drive 8460 0 0x03b00 ∷ drive 8860 0 0x07b00 ∷ drive 8860 7 0x08000 ∷ drive 8860 0 0x03a00 ∷ drive 8860 7 0x00000 ∷ drive 8860 0 0x00000 ∷ []

abbrev capacity_of_the_largest_run_events : List Event
capacity_of_the_largest_run_events = events.Accept (command 1) ∷ events.Run (command 1) ∷ events.End (command 1) 0 ∷ []

capacity_of_the_largest_run_told : shown capacity_of_the_largest_run (story capacity_of_the_largest_run (reverse capacity_of_the_largest_run_rows)) (reverse capacity_of_the_largest_run_events) ≡ record { history = reverse capacity_of_the_largest_run_events; ends = Some (ended_good (255 ∷ 255 ∷ 255 ∷ 255 ∷ 0 ∷ 0 ∷ 2 ∷ 0 ∷ [])) ∷ []; carried = true }
unfolding need_of sent_of ones union_below line_of form_out form_in
capacity_of_the_largest_run_told = refl

-- ---- checks_run

abbrev checks_run : ScenarioValue
checks_run = record {
  version = 1;
  hosts = record { dev = 7; latency = 0; most = 6; retries = 2; period = 0; offset = 0; lag = 0; offers = true } ∷ record { dev = 6; latency = 0; most = 6; retries = 2; period = 0; offset = 0; lag = 0; offers = true } ∷ [];
  targets = record { dev = 0; latency = 0; retries = 2; disc = policies.Command; pick = picks.Last; seek = 1000000; period = 0; offset = 0; begins = false } ∷ [];
  units = record { target = 0; unit = 0; blocks = 1; size = 16; depth = 6 } ∷ [];
  fills = [];
  tapes = [];
  loads = [];
  commands = record { host = 7; target = 0; unit = 0; at = 0; tag = tags.Simple 0; cdb = (8 ∷ 0 ∷ 0 ∷ 1 ∷ 1 ∷ 0 ∷ []); payload = payloads.Nothing } ∷ record { host = 6; target = 0; unit = 0; at = 0; tag = tags.Simple 0; cdb = (0 ∷ 0 ∷ 0 ∷ 0 ∷ 0 ∷ 0 ∷ []); payload = payloads.Nothing } ∷ [];
  aborts = [];
  resets = [];
  faults = [];
}

abbrev pub checks_run_rows : List Row
checks_run_rows = drive 1200 7 0x00280 ∷ drive 1200 6 0x00240 ∷ drive 3600 7 0x00680 ∷ drive 3600 6 0x00000 ∷ drive 4800 7 0x10781 ∷ drive 4890 7 0x10581 ∷ drive 5290 0 0x00200 ∷ drive 5380 7 0x10000 ∷ drive 5380 0 0x02a00 ∷ drive 5780 0 0x06a00 ∷ drive 5780 7 0x101c0 ∷ drive 5835 7 0x181c0 ∷ drive 5835 0 0x02a00 ∷ drive 5835 7 0x10000 ∷ drive 5835 0 0x06a00 ∷ drive 5835 7 0x10020 ∷ drive 5890 7 0x18020 ∷ drive 5890 0 0x02a00 ∷ drive 5890 7 0x10000 ∷ drive 5890 0 0x06a00 ∷ drive 5890 7 0x00100 ∷ drive 5980 7 0x08100 ∷ drive 5980 0 0x02a00 ∷ drive 5980 7 0x00000 ∷ drive 5980 0 0x00a00 ∷ drive 6380 0 0x04a00 ∷ drive 6380 7 0x00008 ∷ drive 6435 7 0x08008 ∷ drive 6435 0 0x00a00 ∷ drive 6435 7 0x00000 ∷ drive 6435 0 0x04a00 ∷ drive 6435 7 0x00100 ∷ drive 6490 7 0x08100 ∷ drive 6490 0 0x00a00 ∷ drive 6490 7 0x00000 ∷ drive 6490 0 0x04a00 ∷ drive 6490 7 0x00100 ∷ drive 6545 7 0x08100 ∷ drive 6545 0 0x00a00 ∷ drive 6545 7 0x00000 ∷ drive 6545 0 0x04a00 ∷ drive 6545 7 0x00001 ∷ drive 6600 7 0x08001 ∷ drive 6600 0 0x00a00 ∷ drive 6600 7 0x00000 ∷ drive 6600 0 0x04a00 ∷ drive 6600 7 0x00001 ∷ drive 6655 7 0x08001 ∷ drive 6655 0 0x00a00 ∷ drive 6655 7 0x00000 ∷ drive 6655 0 0x04a00 ∷ drive 6655 7 0x00100 ∷ drive 6710 7 0x08100 ∷ drive 6710 0 0x00a00 ∷ drive 6710 7 0x00000 ∷ drive 6710 0 0x03a00 ∷ drive 7510 0 0x03a04 ∷ drive 7565 0 0x07a04 ∷ drive 7565 7 0x08000 ∷ drive 7565 0 0x03a00 ∷ drive 7565 7 0x00000 ∷ drive 7565 0 0x00000 ∷ drive 8765 6 0x00240 ∷ drive 11165 6 0x00640 ∷ drive 12365 6 0x10741 ∷ drive 12455 6 0x10541 ∷ drive 12855 0 0x00200 ∷ drive 12945 6 0x10000 ∷ drive 12945 0 0x02a00 ∷ drive 13345 0 0x06a00 ∷ drive 13345 6 0x101c0 ∷ drive 13400 6 0x181c0 ∷ drive 13400 0 0x02a00 ∷ drive 13400 6 0x10000 ∷ drive 13400 0 0x06a00 ∷ drive 13400 6 0x10020 ∷ drive 13455 6 0x18020 ∷ drive 13455 0 0x02a00 ∷ drive 13455 6 0x10000 ∷ drive 13455 0 0x06a00 ∷ drive 13455 6 0x00100 ∷ drive 13545 6 0x08100 ∷ drive 13545 0 0x02a00 ∷ drive 13545 6 0x00000 ∷ drive 13545 0 0x00a00 ∷ drive 13945 0 0x04a00 ∷ drive 13945 6 0x00100 ∷ drive 14000 6 0x08100 ∷ drive 14000 0 0x00a00 ∷ drive 14000 6 0x00000 ∷ drive 14000 0 0x04a00 ∷ drive 14000 6 0x00100 ∷ drive 14055 6 0x08100 ∷ drive 14055 0 0x00a00 ∷ drive 14055 6 0x00000 ∷ drive 14055 0 0x04a00 ∷ drive 14055 6 0x00100 ∷ drive 14110 6 0x08100 ∷ drive 14110 0 0x00a00 ∷ drive 14110 6 0x00000 ∷ drive 14110 0 0x04a00 ∷ drive 14110 6 0x00100 ∷ drive 14165 6 0x08100 ∷ drive 14165 0 0x00a00 ∷ drive 14165 6 0x00000 ∷ drive 14165 0 0x04a00 ∷ drive 14165 6 0x00100 ∷ drive 14220 6 0x08100 ∷ drive 14220 0 0x00a00 ∷ drive 14220 6 0x00000 ∷ drive 14220 0 0x04a00 ∷ drive 14220 6 0x00100 ∷ drive 14275 6 0x08100 ∷ drive 14275 0 0x00a00 ∷ drive 14275 6 0x00000 ∷ drive 14275 0 0x03a00 ∷ drive 15075 0 0x03a04 ∷ drive 15130 0 0x07a04 ∷ drive 15130 6 0x08000 ∷ drive 15130 0 0x03a00 ∷ drive 15130 6 0x00000 ∷ drive 15130 0 0x00000 ∷ drive 1006710 0 0x00201 ∷ drive 1009110 0 0x00601 ∷ drive 1010310 0 0x01781 ∷ drive 1010400 0 0x01581 ∷ drive 1010800 7 0x00200 ∷ drive 1010800 0 0x01781 ∷ drive 1010890 0 0x03a80 ∷ drive 1010890 7 0x00000 ∷ drive 1011290 0 0x07a80 ∷ drive 1011290 7 0x08000 ∷ drive 1011290 0 0x03a20 ∷ drive 1011290 7 0x00000 ∷ drive 1011345 0 0x07a20 ∷ drive 1011345 7 0x08000 ∷ drive 1011345 0 0x03b00 ∷ drive 1011345 7 0x00000 ∷ drive 1011400 0 0x07b00 ∷ drive 1011400 7 0x08000 ∷ drive 1011400 0 0x03a00 ∷ drive 1011400 7 0x00000 ∷ drive 1011400 0 0x01a02 ∷ drive 1011800 0 0x05a02 ∷ drive 1011800 7 0x08000 ∷ drive 1011800 0 0x01a00 ∷ drive 1011800 7 0x00000 ∷ drive 1011800 0 0x03b00 ∷ drive 1012200 0 0x07b00 ∷ drive 1012200 7 0x08000 ∷ drive 1012200 0 0x03a00 ∷ drive 1012200 7 0x00000 ∷ drive 1012200 0 0x00000 ∷ drive 1013400 7 0x00280 ∷ drive 1015800 7 0x00680 ∷ drive 1017000 7 0x10781 ∷ drive 1017090 7 0x10581 ∷ drive 1017490 0 0x00200 ∷ drive 1017580 7 0x10000 ∷ drive 1017580 0 0x02a00 ∷ drive 1017980 0 0x06a00 ∷ drive 1017980 7 0x00080 ∷ drive 1018070 7 0x08080 ∷ drive 1018070 0 0x02a00 ∷ drive 1018070 7 0x00000 ∷ drive 1018070 0 0x00a00 ∷ drive 1018470 0 0x04a00 ∷ drive 1018470 7 0x00103 ∷ drive 1018525 7 0x08103 ∷ drive 1018525 0 0x00a00 ∷ drive 1018525 7 0x00000 ∷ drive 1018525 0 0x04a00 ∷ drive 1018525 7 0x00100 ∷ drive 1018580 7 0x08100 ∷ drive 1018580 0 0x00a00 ∷ drive 1018580 7 0x00000 ∷ drive 1018580 0 0x04a00 ∷ drive 1018580 7 0x00100 ∷ drive 1018635 7 0x08100 ∷ drive 1018635 0 0x00a00 ∷ drive 1018635 7 0x00000 ∷ drive 1018635 0 0x04a00 ∷ drive 1018635 7 0x00100 ∷ drive 1018690 7 0x08100 ∷ drive 1018690 0 0x00a00 ∷ drive 1018690 7 0x00000 ∷ drive 1018690 0 0x04a00 ∷ drive 1018690 7 0x00112 ∷ drive 1018745 7 0x08112 ∷ drive 1018745 0 0x00a00 ∷ drive 1018745 7 0x00000 ∷ drive 1018745 0 0x04a00 ∷ drive 1018745 7 0x00100 ∷ drive 1018800 7 0x08100 ∷ drive 1018800 0 0x00a00 ∷ drive 1018800 7 0x00000 ∷ drive 1018800 0 0x01200 ∷ drive 1019600 0 0x01270 ∷ drive 1019655 0 0x05270 ∷ drive 1019655 7 0x08000 ∷ drive 1019655 0 0x01300 ∷ drive 1019655 7 0x00000 ∷ drive 1019710 0 0x05300 ∷ drive 1019710 7 0x08000 ∷ drive 1019710 0 0x01305 ∷ drive 1019710 7 0x00000 ∷ drive 1019765 0 0x05305 ∷ drive 1019765 7 0x08000 ∷ drive 1019765 0 0x01300 ∷ drive 1019765 7 0x00000 ∷ drive 1019820 0 0x05300 ∷ drive 1019820 7 0x08000 ∷ drive 1019820 0 0x01300 ∷ drive 1019820 7 0x00000 ∷ drive 1019875 0 0x05300 ∷ drive 1019875 7 0x08000 ∷ drive 1019875 0 0x01300 ∷ drive 1019875 7 0x00000 ∷ drive 1019930 0 0x05300 ∷ drive 1019930 7 0x08000 ∷ drive 1019930 0 0x01300 ∷ drive 1019930 7 0x00000 ∷ drive 1019985 0 0x05300 ∷ drive 1019985 7 0x08000 ∷ drive 1019985 0 0x0130a ∷ drive 1019985 7 0x00000 ∷ drive 1020040 0 0x0530a ∷ drive 1020040 7 0x08000 ∷ drive 1020040 0 0x01300 ∷ drive 1020040 7 0x00000 ∷ drive 1020095 0 0x05300 ∷ drive 1020095 7 0x08000 ∷ drive 1020095 0 0x01300 ∷ drive 1020095 7 0x00000 ∷ drive 1020150 0 0x05300 ∷ drive 1020150 7 0x08000 ∷ drive 1020150 0 0x01300 ∷ drive 1020150 7 0x00000 ∷ drive 1020205 0 0x05300 ∷ drive 1020205 7 0x08000 ∷ drive 1020205 0 0x01300 ∷ drive 1020205 7 0x00000 ∷ drive 1020260 0 0x05300 ∷ drive 1020260 7 0x08000 ∷ drive 1020260 0 0x01321 ∷ drive 1020260 7 0x00000 ∷ drive 1020315 0 0x05321 ∷ drive 1020315 7 0x08000 ∷ drive 1020315 0 0x01300 ∷ drive 1020315 7 0x00000 ∷ drive 1020370 0 0x05300 ∷ drive 1020370 7 0x08000 ∷ drive 1020370 0 0x01300 ∷ drive 1020370 7 0x00000 ∷ drive 1020425 0 0x05300 ∷ drive 1020425 7 0x08000 ∷ drive 1020425 0 0x01300 ∷ drive 1020425 7 0x00000 ∷ drive 1020480 0 0x05300 ∷ drive 1020480 7 0x08000 ∷ drive 1020480 0 0x01300 ∷ drive 1020480 7 0x00000 ∷ drive 1020535 0 0x05300 ∷ drive 1020535 7 0x08000 ∷ drive 1020535 0 0x01300 ∷ drive 1020535 7 0x00000 ∷ drive 1020590 0 0x05300 ∷ drive 1020590 7 0x08000 ∷ drive 1020590 0 0x01200 ∷ drive 1020590 7 0x00000 ∷ drive 1020590 0 0x01b00 ∷ drive 1020990 0 0x05b00 ∷ drive 1020990 7 0x08000 ∷ drive 1020990 0 0x01a00 ∷ drive 1020990 7 0x00000 ∷ drive 1020990 0 0x03b00 ∷ drive 1021390 0 0x07b00 ∷ drive 1021390 7 0x08000 ∷ drive 1021390 0 0x03a00 ∷ drive 1021390 7 0x00000 ∷ drive 1021390 0 0x00000 ∷ drive 2021390 0 0x00201 ∷ drive 2023790 0 0x00601 ∷ drive 2024990 0 0x01741 ∷ drive 2025080 0 0x01541 ∷ drive 2025480 6 0x00200 ∷ drive 2025480 0 0x01741 ∷ drive 2025570 0 0x03a80 ∷ drive 2025570 6 0x00000 ∷ drive 2025970 0 0x07a80 ∷ drive 2025970 6 0x08000 ∷ drive 2025970 0 0x03a20 ∷ drive 2025970 6 0x00000 ∷ drive 2026025 0 0x07a20 ∷ drive 2026025 6 0x08000 ∷ drive 2026025 0 0x03b00 ∷ drive 2026025 6 0x00000 ∷ drive 2026080 0 0x07b00 ∷ drive 2026080 6 0x08000 ∷ drive 2026080 0 0x03a00 ∷ drive 2026080 6 0x00000 ∷ drive 2026080 0 0x01b00 ∷ drive 2026480 0 0x05b00 ∷ drive 2026480 6 0x08000 ∷ drive 2026480 0 0x01a00 ∷ drive 2026480 6 0x00000 ∷ drive 2026480 0 0x03b00 ∷ drive 2026880 0 0x07b00 ∷ drive 2026880 6 0x08000 ∷ drive 2026880 0 0x03a00 ∷ drive 2026880 6 0x00000 ∷ drive 2026880 0 0x00000 ∷ []

abbrev checks_run_events : List Event
checks_run_events = events.Accept (command 1) ∷ events.Accept (command 2) ∷ events.Run (command 1) ∷ events.End (command 1) 2 ∷ events.Accept (sense 1) ∷ events.Run (sense 1) ∷ events.End (sense 1) 0 ∷ events.Run (command 2) ∷ events.End (command 2) 0 ∷ []

checks_run_told : shown checks_run (story checks_run (reverse checks_run_rows)) (reverse checks_run_events) ≡ record { history = reverse checks_run_events; ends = Some (ended_check (Some (sense_of 5 33 0))) ∷ Some (ended_good ([])) ∷ []; carried = true }
unfolding need_of sent_of ones union_below line_of form_out form_in
checks_run_told = refl

-- ---- conflicts_run

abbrev conflicts_run : ScenarioValue
conflicts_run = record {
  version = 1;
  hosts = record { dev = 7; latency = 0; most = 6; retries = 2; period = 0; offset = 0; lag = 0; offers = true } ∷ record { dev = 6; latency = 0; most = 6; retries = 2; period = 0; offset = 0; lag = 0; offers = true } ∷ [];
  targets = record { dev = 0; latency = 0; retries = 2; disc = policies.Command; pick = picks.Last; seek = 1000000; period = 0; offset = 0; begins = false } ∷ [];
  units = record { target = 0; unit = 0; blocks = 1; size = 16; depth = 6 } ∷ [];
  fills = [];
  tapes = [];
  loads = [];
  commands = record { host = 7; target = 0; unit = 0; at = 0; tag = tags.Simple 0; cdb = (0 ∷ 0 ∷ 0 ∷ 0 ∷ 0 ∷ 0 ∷ []); payload = payloads.Nothing } ∷ record { host = 7; target = 0; unit = 0; at = 0; tag = tags.Simple 1; cdb = (10 ∷ 0 ∷ 0 ∷ 0 ∷ 1 ∷ 0 ∷ []); payload = payloads.From 32 } ∷ record { host = 7; target = 0; unit = 0; at = 0; tag = tags.Simple 2; cdb = (10 ∷ 0 ∷ 0 ∷ 0 ∷ 1 ∷ 0 ∷ []); payload = payloads.From 64 } ∷ record { host = 6; target = 0; unit = 0; at = 0; tag = tags.Simple 0; cdb = (10 ∷ 0 ∷ 0 ∷ 0 ∷ 1 ∷ 0 ∷ []); payload = payloads.From 96 } ∷ [];
  aborts = [];
  resets = [];
  faults = [];
}

abbrev pub conflicts_run_rows : List Row
conflicts_run_rows = drive 1200 7 0x00280 ∷ drive 1200 6 0x00240 ∷ drive 3600 7 0x00680 ∷ drive 3600 6 0x00000 ∷ drive 4800 7 0x10781 ∷ drive 4890 7 0x10581 ∷ drive 5290 0 0x00200 ∷ drive 5380 7 0x10000 ∷ drive 5380 0 0x02a00 ∷ drive 5780 0 0x06a00 ∷ drive 5780 7 0x101c0 ∷ drive 5835 7 0x181c0 ∷ drive 5835 0 0x02a00 ∷ drive 5835 7 0x10000 ∷ drive 5835 0 0x06a00 ∷ drive 5835 7 0x10020 ∷ drive 5890 7 0x18020 ∷ drive 5890 0 0x02a00 ∷ drive 5890 7 0x10000 ∷ drive 5890 0 0x06a00 ∷ drive 5890 7 0x00100 ∷ drive 5980 7 0x08100 ∷ drive 5980 0 0x02a00 ∷ drive 5980 7 0x00000 ∷ drive 5980 0 0x00a00 ∷ drive 6380 0 0x04a00 ∷ drive 6380 7 0x00100 ∷ drive 6435 7 0x08100 ∷ drive 6435 0 0x00a00 ∷ drive 6435 7 0x00000 ∷ drive 6435 0 0x04a00 ∷ drive 6435 7 0x00100 ∷ drive 6490 7 0x08100 ∷ drive 6490 0 0x00a00 ∷ drive 6490 7 0x00000 ∷ drive 6490 0 0x04a00 ∷ drive 6490 7 0x00100 ∷ drive 6545 7 0x08100 ∷ drive 6545 0 0x00a00 ∷ drive 6545 7 0x00000 ∷ drive 6545 0 0x04a00 ∷ drive 6545 7 0x00100 ∷ drive 6600 7 0x08100 ∷ drive 6600 0 0x00a00 ∷ drive 6600 7 0x00000 ∷ drive 6600 0 0x04a00 ∷ drive 6600 7 0x00100 ∷ drive 6655 7 0x08100 ∷ drive 6655 0 0x00a00 ∷ drive 6655 7 0x00000 ∷ drive 6655 0 0x04a00 ∷ drive 6655 7 0x00100 ∷ drive 6710 7 0x08100 ∷ drive 6710 0 0x00a00 ∷ drive 6710 7 0x00000 ∷ drive 6710 0 0x03a00 ∷ drive 7510 0 0x03a04 ∷ drive 7565 0 0x07a04 ∷ drive 7565 7 0x08000 ∷ drive 7565 0 0x03a00 ∷ drive 7565 7 0x00000 ∷ drive 7565 0 0x00000 ∷ drive 8765 7 0x00280 ∷ drive 8765 6 0x00240 ∷ drive 11165 7 0x00680 ∷ drive 11165 6 0x00000 ∷ drive 12365 7 0x10781 ∷ drive 12455 7 0x10581 ∷ drive 12855 0 0x00200 ∷ drive 12945 7 0x10000 ∷ drive 12945 0 0x02a00 ∷ drive 13345 0 0x06a00 ∷ drive 13345 7 0x101c0 ∷ drive 13400 7 0x181c0 ∷ drive 13400 0 0x02a00 ∷ drive 13400 7 0x10000 ∷ drive 13400 0 0x06a00 ∷ drive 13400 7 0x10020 ∷ drive 13455 7 0x18020 ∷ drive 13455 0 0x02a00 ∷ drive 13455 7 0x10000 ∷ drive 13455 0 0x06a00 ∷ drive 13455 7 0x00001 ∷ drive 13545 7 0x08001 ∷ drive 13545 0 0x02a00 ∷ drive 13545 7 0x00000 ∷ drive 13545 0 0x00a00 ∷ drive 13945 0 0x04a00 ∷ drive 13945 7 0x0010a ∷ drive 14000 7 0x0810a ∷ drive 14000 0 0x00a00 ∷ drive 14000 7 0x00000 ∷ drive 14000 0 0x04a00 ∷ drive 14000 7 0x00100 ∷ drive 14055 7 0x08100 ∷ drive 14055 0 0x00a00 ∷ drive 14055 7 0x00000 ∷ drive 14055 0 0x04a00 ∷ drive 14055 7 0x00100 ∷ drive 14110 7 0x08100 ∷ drive 14110 0 0x00a00 ∷ drive 14110 7 0x00000 ∷ drive 14110 0 0x04a00 ∷ drive 14110 7 0x00100 ∷ drive 14165 7 0x08100 ∷ drive 14165 0 0x00a00 ∷ drive 14165 7 0x00000 ∷ drive 14165 0 0x04a00 ∷ drive 14165 7 0x00001 ∷ drive 14220 7 0x08001 ∷ drive 14220 0 0x00a00 ∷ drive 14220 7 0x00000 ∷ drive 14220 0 0x04a00 ∷ drive 14220 7 0x00100 ∷ drive 14275 7 0x08100 ∷ drive 14275 0 0x00a00 ∷ drive 14275 7 0x00000 ∷ drive 14275 0 0x03a00 ∷ drive 15075 0 0x03a04 ∷ drive 15130 0 0x07a04 ∷ drive 15130 7 0x08000 ∷ drive 15130 0 0x03a00 ∷ drive 15130 7 0x00000 ∷ drive 15130 0 0x00000 ∷ drive 16330 7 0x00280 ∷ drive 16330 6 0x00240 ∷ drive 18730 7 0x00680 ∷ drive 18730 6 0x00000 ∷ drive 19930 7 0x10781 ∷ drive 20020 7 0x10581 ∷ drive 20420 0 0x00200 ∷ drive 20510 7 0x10000 ∷ drive 20510 0 0x02a00 ∷ drive 20910 0 0x06a00 ∷ drive 20910 7 0x101c0 ∷ drive 20965 7 0x181c0 ∷ drive 20965 0 0x02a00 ∷ drive 20965 7 0x10000 ∷ drive 20965 0 0x06a00 ∷ drive 20965 7 0x10020 ∷ drive 21020 7 0x18020 ∷ drive 21020 0 0x02a00 ∷ drive 21020 7 0x10000 ∷ drive 21020 0 0x06a00 ∷ drive 21020 7 0x00002 ∷ drive 21110 7 0x08002 ∷ drive 21110 0 0x02a00 ∷ drive 21110 7 0x00000 ∷ drive 21110 0 0x00a00 ∷ drive 21510 0 0x04a00 ∷ drive 21510 7 0x0010a ∷ drive 21565 7 0x0810a ∷ drive 21565 0 0x00a00 ∷ drive 21565 7 0x00000 ∷ drive 21565 0 0x04a00 ∷ drive 21565 7 0x00100 ∷ drive 21620 7 0x08100 ∷ drive 21620 0 0x00a00 ∷ drive 21620 7 0x00000 ∷ drive 21620 0 0x04a00 ∷ drive 21620 7 0x00100 ∷ drive 21675 7 0x08100 ∷ drive 21675 0 0x00a00 ∷ drive 21675 7 0x00000 ∷ drive 21675 0 0x04a00 ∷ drive 21675 7 0x00100 ∷ drive 21730 7 0x08100 ∷ drive 21730 0 0x00a00 ∷ drive 21730 7 0x00000 ∷ drive 21730 0 0x04a00 ∷ drive 21730 7 0x00001 ∷ drive 21785 7 0x08001 ∷ drive 21785 0 0x00a00 ∷ drive 21785 7 0x00000 ∷ drive 21785 0 0x04a00 ∷ drive 21785 7 0x00100 ∷ drive 21840 7 0x08100 ∷ drive 21840 0 0x00a00 ∷ drive 21840 7 0x00000 ∷ drive 21840 0 0x03a00 ∷ drive 22640 0 0x03a04 ∷ drive 22695 0 0x07a04 ∷ drive 22695 7 0x08000 ∷ drive 22695 0 0x03a00 ∷ drive 22695 7 0x00000 ∷ drive 22695 0 0x00000 ∷ drive 23895 6 0x00240 ∷ drive 26295 6 0x00640 ∷ drive 27495 6 0x10741 ∷ drive 27585 6 0x10541 ∷ drive 27985 0 0x00200 ∷ drive 28075 6 0x10000 ∷ drive 28075 0 0x02a00 ∷ drive 28475 0 0x06a00 ∷ drive 28475 6 0x101c0 ∷ drive 28530 6 0x181c0 ∷ drive 28530 0 0x02a00 ∷ drive 28530 6 0x10000 ∷ drive 28530 0 0x06a00 ∷ drive 28530 6 0x10020 ∷ drive 28585 6 0x18020 ∷ drive 28585 0 0x02a00 ∷ drive 28585 6 0x10000 ∷ drive 28585 0 0x06a00 ∷ drive 28585 6 0x00100 ∷ drive 28675 6 0x08100 ∷ drive 28675 0 0x02a00 ∷ drive 28675 6 0x00000 ∷ drive 28675 0 0x00a00 ∷ drive 29075 0 0x04a00 ∷ drive 29075 6 0x0010a ∷ drive 29130 6 0x0810a ∷ drive 29130 0 0x00a00 ∷ drive 29130 6 0x00000 ∷ drive 29130 0 0x04a00 ∷ drive 29130 6 0x00100 ∷ drive 29185 6 0x08100 ∷ drive 29185 0 0x00a00 ∷ drive 29185 6 0x00000 ∷ drive 29185 0 0x04a00 ∷ drive 29185 6 0x00100 ∷ drive 29240 6 0x08100 ∷ drive 29240 0 0x00a00 ∷ drive 29240 6 0x00000 ∷ drive 29240 0 0x04a00 ∷ drive 29240 6 0x00100 ∷ drive 29295 6 0x08100 ∷ drive 29295 0 0x00a00 ∷ drive 29295 6 0x00000 ∷ drive 29295 0 0x04a00 ∷ drive 29295 6 0x00001 ∷ drive 29350 6 0x08001 ∷ drive 29350 0 0x00a00 ∷ drive 29350 6 0x00000 ∷ drive 29350 0 0x04a00 ∷ drive 29350 6 0x00100 ∷ drive 29405 6 0x08100 ∷ drive 29405 0 0x00a00 ∷ drive 29405 6 0x00000 ∷ drive 29405 0 0x03a00 ∷ drive 30205 0 0x03a04 ∷ drive 30260 0 0x07a04 ∷ drive 30260 6 0x08000 ∷ drive 30260 0 0x03a00 ∷ drive 30260 6 0x00000 ∷ drive 30260 0 0x00000 ∷ drive 1006710 0 0x00201 ∷ drive 1009110 0 0x00601 ∷ drive 1010310 0 0x01781 ∷ drive 1010400 0 0x01581 ∷ drive 1010800 7 0x00200 ∷ drive 1010800 0 0x01781 ∷ drive 1010890 0 0x03a80 ∷ drive 1010890 7 0x00000 ∷ drive 1011290 0 0x07a80 ∷ drive 1011290 7 0x08000 ∷ drive 1011290 0 0x03a20 ∷ drive 1011290 7 0x00000 ∷ drive 1011345 0 0x07a20 ∷ drive 1011345 7 0x08000 ∷ drive 1011345 0 0x03b00 ∷ drive 1011345 7 0x00000 ∷ drive 1011400 0 0x07b00 ∷ drive 1011400 7 0x08000 ∷ drive 1011400 0 0x03a00 ∷ drive 1011400 7 0x00000 ∷ drive 1011400 0 0x01b00 ∷ drive 1011800 0 0x05b00 ∷ drive 1011800 7 0x08000 ∷ drive 1011800 0 0x01a00 ∷ drive 1011800 7 0x00000 ∷ drive 1011800 0 0x03b00 ∷ drive 1012200 0 0x07b00 ∷ drive 1012200 7 0x08000 ∷ drive 1012200 0 0x03a00 ∷ drive 1012200 7 0x00000 ∷ drive 1012200 0 0x00000 ∷ drive 2012200 0 0x00201 ∷ drive 2014600 0 0x00601 ∷ drive 2015800 0 0x01741 ∷ drive 2015890 0 0x01541 ∷ drive 2016290 6 0x00200 ∷ drive 2016290 0 0x01741 ∷ drive 2016380 0 0x03a80 ∷ drive 2016380 6 0x00000 ∷ drive 2016780 0 0x07a80 ∷ drive 2016780 6 0x08000 ∷ drive 2016780 0 0x03a20 ∷ drive 2016780 6 0x00000 ∷ drive 2016835 0 0x07a20 ∷ drive 2016835 6 0x08000 ∷ drive 2016835 0 0x03b00 ∷ drive 2016835 6 0x00000 ∷ drive 2016890 0 0x07b00 ∷ drive 2016890 6 0x08000 ∷ drive 2016890 0 0x03a00 ∷ drive 2016890 6 0x00000 ∷ drive 2016890 0 0x00200 ∷ drive 2017290 0 0x04200 ∷ drive 2017290 6 0x00160 ∷ drive 2017345 6 0x08160 ∷ drive 2017345 0 0x00200 ∷ drive 2017345 6 0x00000 ∷ drive 2017345 0 0x04200 ∷ drive 2017345 6 0x00061 ∷ drive 2017400 6 0x08061 ∷ drive 2017400 0 0x00200 ∷ drive 2017400 6 0x00000 ∷ drive 2017400 0 0x04200 ∷ drive 2017400 6 0x00062 ∷ drive 2017455 6 0x08062 ∷ drive 2017455 0 0x00200 ∷ drive 2017455 6 0x00000 ∷ drive 2017455 0 0x04200 ∷ drive 2017455 6 0x00163 ∷ drive 2017510 6 0x08163 ∷ drive 2017510 0 0x00200 ∷ drive 2017510 6 0x00000 ∷ drive 2017510 0 0x04200 ∷ drive 2017510 6 0x00064 ∷ drive 2017565 6 0x08064 ∷ drive 2017565 0 0x00200 ∷ drive 2017565 6 0x00000 ∷ drive 2017565 0 0x04200 ∷ drive 2017565 6 0x00165 ∷ drive 2017620 6 0x08165 ∷ drive 2017620 0 0x00200 ∷ drive 2017620 6 0x00000 ∷ drive 2017620 0 0x04200 ∷ drive 2017620 6 0x00166 ∷ drive 2017675 6 0x08166 ∷ drive 2017675 0 0x00200 ∷ drive 2017675 6 0x00000 ∷ drive 2017675 0 0x04200 ∷ drive 2017675 6 0x00067 ∷ drive 2017730 6 0x08067 ∷ drive 2017730 0 0x00200 ∷ drive 2017730 6 0x00000 ∷ drive 2017730 0 0x04200 ∷ drive 2017730 6 0x00068 ∷ drive 2017785 6 0x08068 ∷ drive 2017785 0 0x00200 ∷ drive 2017785 6 0x00000 ∷ drive 2017785 0 0x04200 ∷ drive 2017785 6 0x00169 ∷ drive 2017840 6 0x08169 ∷ drive 2017840 0 0x00200 ∷ drive 2017840 6 0x00000 ∷ drive 2017840 0 0x04200 ∷ drive 2017840 6 0x0016a ∷ drive 2017895 6 0x0816a ∷ drive 2017895 0 0x00200 ∷ drive 2017895 6 0x00000 ∷ drive 2017895 0 0x04200 ∷ drive 2017895 6 0x0006b ∷ drive 2017950 6 0x0806b ∷ drive 2017950 0 0x00200 ∷ drive 2017950 6 0x00000 ∷ drive 2017950 0 0x04200 ∷ drive 2017950 6 0x0016c ∷ drive 2018005 6 0x0816c ∷ drive 2018005 0 0x00200 ∷ drive 2018005 6 0x00000 ∷ drive 2018005 0 0x04200 ∷ drive 2018005 6 0x0006d ∷ drive 2018060 6 0x0806d ∷ drive 2018060 0 0x00200 ∷ drive 2018060 6 0x00000 ∷ drive 2018060 0 0x04200 ∷ drive 2018060 6 0x0006e ∷ drive 2018115 6 0x0806e ∷ drive 2018115 0 0x00200 ∷ drive 2018115 6 0x00000 ∷ drive 2018115 0 0x04200 ∷ drive 2018115 6 0x0016f ∷ drive 2018170 6 0x0816f ∷ drive 2018170 0 0x00200 ∷ drive 2018170 6 0x00000 ∷ drive 2018170 0 0x01a00 ∷ drive 2018970 0 0x01b00 ∷ drive 2019025 0 0x05b00 ∷ drive 2019025 6 0x08000 ∷ drive 2019025 0 0x01a00 ∷ drive 2019025 6 0x00000 ∷ drive 2019025 0 0x03b00 ∷ drive 2019425 0 0x07b00 ∷ drive 2019425 6 0x08000 ∷ drive 2019425 0 0x03a00 ∷ drive 2019425 6 0x00000 ∷ drive 2019425 0 0x00000 ∷ drive 3019425 0 0x00201 ∷ drive 3021825 0 0x00601 ∷ drive 3023025 0 0x01781 ∷ drive 3023115 0 0x01581 ∷ drive 3023515 7 0x00200 ∷ drive 3023515 0 0x01781 ∷ drive 3023605 0 0x03a80 ∷ drive 3023605 7 0x00000 ∷ drive 3024005 0 0x07a80 ∷ drive 3024005 7 0x08000 ∷ drive 3024005 0 0x03a20 ∷ drive 3024005 7 0x00000 ∷ drive 3024060 0 0x07a20 ∷ drive 3024060 7 0x08000 ∷ drive 3024060 0 0x03a01 ∷ drive 3024060 7 0x00000 ∷ drive 3024115 0 0x07a01 ∷ drive 3024115 7 0x08000 ∷ drive 3024115 0 0x03a00 ∷ drive 3024115 7 0x00000 ∷ drive 3024115 0 0x00200 ∷ drive 3024515 0 0x04200 ∷ drive 3024515 7 0x00020 ∷ drive 3024570 7 0x08020 ∷ drive 3024570 0 0x00200 ∷ drive 3024570 7 0x00000 ∷ drive 3024570 0 0x04200 ∷ drive 3024570 7 0x00121 ∷ drive 3024625 7 0x08121 ∷ drive 3024625 0 0x00200 ∷ drive 3024625 7 0x00000 ∷ drive 3024625 0 0x04200 ∷ drive 3024625 7 0x00122 ∷ drive 3024680 7 0x08122 ∷ drive 3024680 0 0x00200 ∷ drive 3024680 7 0x00000 ∷ drive 3024680 0 0x04200 ∷ drive 3024680 7 0x00023 ∷ drive 3024735 7 0x08023 ∷ drive 3024735 0 0x00200 ∷ drive 3024735 7 0x00000 ∷ drive 3024735 0 0x04200 ∷ drive 3024735 7 0x00124 ∷ drive 3024790 7 0x08124 ∷ drive 3024790 0 0x00200 ∷ drive 3024790 7 0x00000 ∷ drive 3024790 0 0x04200 ∷ drive 3024790 7 0x00025 ∷ drive 3024845 7 0x08025 ∷ drive 3024845 0 0x00200 ∷ drive 3024845 7 0x00000 ∷ drive 3024845 0 0x04200 ∷ drive 3024845 7 0x00026 ∷ drive 3024900 7 0x08026 ∷ drive 3024900 0 0x00200 ∷ drive 3024900 7 0x00000 ∷ drive 3024900 0 0x04200 ∷ drive 3024900 7 0x00127 ∷ drive 3024955 7 0x08127 ∷ drive 3024955 0 0x00200 ∷ drive 3024955 7 0x00000 ∷ drive 3024955 0 0x04200 ∷ drive 3024955 7 0x00128 ∷ drive 3025010 7 0x08128 ∷ drive 3025010 0 0x00200 ∷ drive 3025010 7 0x00000 ∷ drive 3025010 0 0x04200 ∷ drive 3025010 7 0x00029 ∷ drive 3025065 7 0x08029 ∷ drive 3025065 0 0x00200 ∷ drive 3025065 7 0x00000 ∷ drive 3025065 0 0x04200 ∷ drive 3025065 7 0x0002a ∷ drive 3025120 7 0x0802a ∷ drive 3025120 0 0x00200 ∷ drive 3025120 7 0x00000 ∷ drive 3025120 0 0x04200 ∷ drive 3025120 7 0x0012b ∷ drive 3025175 7 0x0812b ∷ drive 3025175 0 0x00200 ∷ drive 3025175 7 0x00000 ∷ drive 3025175 0 0x04200 ∷ drive 3025175 7 0x0002c ∷ drive 3025230 7 0x0802c ∷ drive 3025230 0 0x00200 ∷ drive 3025230 7 0x00000 ∷ drive 3025230 0 0x04200 ∷ drive 3025230 7 0x0012d ∷ drive 3025285 7 0x0812d ∷ drive 3025285 0 0x00200 ∷ drive 3025285 7 0x00000 ∷ drive 3025285 0 0x04200 ∷ drive 3025285 7 0x0012e ∷ drive 3025340 7 0x0812e ∷ drive 3025340 0 0x00200 ∷ drive 3025340 7 0x00000 ∷ drive 3025340 0 0x04200 ∷ drive 3025340 7 0x0002f ∷ drive 3025395 7 0x0802f ∷ drive 3025395 0 0x00200 ∷ drive 3025395 7 0x00000 ∷ drive 3025395 0 0x01a00 ∷ drive 3026195 0 0x01b00 ∷ drive 3026250 0 0x05b00 ∷ drive 3026250 7 0x08000 ∷ drive 3026250 0 0x01a00 ∷ drive 3026250 7 0x00000 ∷ drive 3026250 0 0x03b00 ∷ drive 3026650 0 0x07b00 ∷ drive 3026650 7 0x08000 ∷ drive 3026650 0 0x03a00 ∷ drive 3026650 7 0x00000 ∷ drive 3026650 0 0x00000 ∷ drive 4026650 0 0x00201 ∷ drive 4029050 0 0x00601 ∷ drive 4030250 0 0x01781 ∷ drive 4030340 0 0x01581 ∷ drive 4030740 7 0x00200 ∷ drive 4030740 0 0x01781 ∷ drive 4030830 0 0x03a80 ∷ drive 4030830 7 0x00000 ∷ drive 4031230 0 0x07a80 ∷ drive 4031230 7 0x08000 ∷ drive 4031230 0 0x03a20 ∷ drive 4031230 7 0x00000 ∷ drive 4031285 0 0x07a20 ∷ drive 4031285 7 0x08000 ∷ drive 4031285 0 0x03a02 ∷ drive 4031285 7 0x00000 ∷ drive 4031340 0 0x07a02 ∷ drive 4031340 7 0x08000 ∷ drive 4031340 0 0x03a00 ∷ drive 4031340 7 0x00000 ∷ drive 4031340 0 0x00200 ∷ drive 4031740 0 0x04200 ∷ drive 4031740 7 0x00040 ∷ drive 4031795 7 0x08040 ∷ drive 4031795 0 0x00200 ∷ drive 4031795 7 0x00000 ∷ drive 4031795 0 0x04200 ∷ drive 4031795 7 0x00141 ∷ drive 4031850 7 0x08141 ∷ drive 4031850 0 0x00200 ∷ drive 4031850 7 0x00000 ∷ drive 4031850 0 0x04200 ∷ drive 4031850 7 0x00142 ∷ drive 4031905 7 0x08142 ∷ drive 4031905 0 0x00200 ∷ drive 4031905 7 0x00000 ∷ drive 4031905 0 0x04200 ∷ drive 4031905 7 0x00043 ∷ drive 4031960 7 0x08043 ∷ drive 4031960 0 0x00200 ∷ drive 4031960 7 0x00000 ∷ drive 4031960 0 0x04200 ∷ drive 4031960 7 0x00144 ∷ drive 4032015 7 0x08144 ∷ drive 4032015 0 0x00200 ∷ drive 4032015 7 0x00000 ∷ drive 4032015 0 0x04200 ∷ drive 4032015 7 0x00045 ∷ drive 4032070 7 0x08045 ∷ drive 4032070 0 0x00200 ∷ drive 4032070 7 0x00000 ∷ drive 4032070 0 0x04200 ∷ drive 4032070 7 0x00046 ∷ drive 4032125 7 0x08046 ∷ drive 4032125 0 0x00200 ∷ drive 4032125 7 0x00000 ∷ drive 4032125 0 0x04200 ∷ drive 4032125 7 0x00147 ∷ drive 4032180 7 0x08147 ∷ drive 4032180 0 0x00200 ∷ drive 4032180 7 0x00000 ∷ drive 4032180 0 0x04200 ∷ drive 4032180 7 0x00148 ∷ drive 4032235 7 0x08148 ∷ drive 4032235 0 0x00200 ∷ drive 4032235 7 0x00000 ∷ drive 4032235 0 0x04200 ∷ drive 4032235 7 0x00049 ∷ drive 4032290 7 0x08049 ∷ drive 4032290 0 0x00200 ∷ drive 4032290 7 0x00000 ∷ drive 4032290 0 0x04200 ∷ drive 4032290 7 0x0004a ∷ drive 4032345 7 0x0804a ∷ drive 4032345 0 0x00200 ∷ drive 4032345 7 0x00000 ∷ drive 4032345 0 0x04200 ∷ drive 4032345 7 0x0014b ∷ drive 4032400 7 0x0814b ∷ drive 4032400 0 0x00200 ∷ drive 4032400 7 0x00000 ∷ drive 4032400 0 0x04200 ∷ drive 4032400 7 0x0004c ∷ drive 4032455 7 0x0804c ∷ drive 4032455 0 0x00200 ∷ drive 4032455 7 0x00000 ∷ drive 4032455 0 0x04200 ∷ drive 4032455 7 0x0014d ∷ drive 4032510 7 0x0814d ∷ drive 4032510 0 0x00200 ∷ drive 4032510 7 0x00000 ∷ drive 4032510 0 0x04200 ∷ drive 4032510 7 0x0014e ∷ drive 4032565 7 0x0814e ∷ drive 4032565 0 0x00200 ∷ drive 4032565 7 0x00000 ∷ drive 4032565 0 0x04200 ∷ drive 4032565 7 0x0004f ∷ drive 4032620 7 0x0804f ∷ drive 4032620 0 0x00200 ∷ drive 4032620 7 0x00000 ∷ drive 4032620 0 0x01a00 ∷ drive 4033420 0 0x01b00 ∷ drive 4033475 0 0x05b00 ∷ drive 4033475 7 0x08000 ∷ drive 4033475 0 0x01a00 ∷ drive 4033475 7 0x00000 ∷ drive 4033475 0 0x03b00 ∷ drive 4033875 0 0x07b00 ∷ drive 4033875 7 0x08000 ∷ drive 4033875 0 0x03a00 ∷ drive 4033875 7 0x00000 ∷ drive 4033875 0 0x00000 ∷ []

abbrev conflicts_run_events : List Event
conflicts_run_events = events.Accept (command 1) ∷ events.Accept (command 2) ∷ events.Accept (command 3) ∷ events.Accept (command 4) ∷ events.Run (command 1) ∷ events.End (command 1) 0 ∷ events.Run (command 4) ∷ events.End (command 4) 0 ∷ events.Run (command 2) ∷ events.End (command 2) 0 ∷ events.Run (command 3) ∷ events.End (command 3) 0 ∷ []

conflicts_run_told : shown conflicts_run (story conflicts_run (reverse conflicts_run_rows)) (reverse conflicts_run_events) ≡ record { history = reverse conflicts_run_events; ends = Some (ended_good ([])) ∷ Some (ended_good ([])) ∷ Some (ended_good ([])) ∷ Some (ended_good ([])) ∷ []; carried = true }
unfolding need_of sent_of ones union_below line_of form_out form_in
conflicts_run_told = refl

-- ---- failures_run

abbrev failures_run : ScenarioValue
failures_run = record {
  version = 1;
  hosts = record { dev = 3; latency = 100; most = 8; retries = 0; period = 25; offset = 8; lag = 0; offers = true } ∷ [];
  targets = record { dev = 0; latency = 0; retries = 0; disc = policies.Never; pick = picks.Last; seek = 0; period = 50; offset = 8; begins = false } ∷ record { dev = 1; latency = 100; retries = 0; disc = policies.Never; pick = picks.Last; seek = 0; period = 49; offset = 8; begins = false } ∷ [];
  units = record { target = 0; unit = 0; blocks = 1; size = 32; depth = 4 } ∷ record { target = 0; unit = 6; blocks = 1; size = 32; depth = 16 } ∷ record { target = 1; unit = 4; blocks = 1; size = 32; depth = 2 } ∷ record { target = 1; unit = 7; blocks = 2; size = 32; depth = 4 } ∷ [];
  fills = record { target = 0; unit = 0; lba = 0; bytes = (243 ∷ 0 ∷ 92 ∷ 0 ∷ 50 ∷ 24 ∷ 195 ∷ 87 ∷ 111 ∷ 0 ∷ 136 ∷ 94 ∷ 0 ∷ 84 ∷ 86 ∷ 63 ∷ 217 ∷ 1 ∷ 0 ∷ 0 ∷ 148 ∷ 118 ∷ 0 ∷ 133 ∷ 226 ∷ 222 ∷ 23 ∷ 169 ∷ 0 ∷ 109 ∷ 154 ∷ 187 ∷ []) } ∷ record { target = 1; unit = 4; lba = 0; bytes = (15 ∷ 0 ∷ 64 ∷ 0 ∷ 166 ∷ 0 ∷ 91 ∷ 210 ∷ 118 ∷ 172 ∷ 124 ∷ 0 ∷ 201 ∷ 188 ∷ 63 ∷ 212 ∷ 0 ∷ 13 ∷ 124 ∷ 188 ∷ 31 ∷ 0 ∷ 0 ∷ 131 ∷ 158 ∷ 0 ∷ 157 ∷ 0 ∷ 101 ∷ 238 ∷ 166 ∷ 0 ∷ []) } ∷ record { target = 1; unit = 7; lba = 0; bytes = (0 ∷ 0 ∷ 143 ∷ 218 ∷ 64 ∷ 47 ∷ 0 ∷ 177 ∷ 0 ∷ 165 ∷ 167 ∷ 0 ∷ 230 ∷ 88 ∷ 0 ∷ 103 ∷ 0 ∷ 0 ∷ 206 ∷ 35 ∷ 0 ∷ 94 ∷ 0 ∷ 217 ∷ 54 ∷ 0 ∷ 244 ∷ 75 ∷ 233 ∷ 39 ∷ 0 ∷ 0 ∷ []) } ∷ record { target = 1; unit = 7; lba = 1; bytes = (216 ∷ 235 ∷ 0 ∷ 0 ∷ 45 ∷ 0 ∷ 66 ∷ 149 ∷ 0 ∷ 0 ∷ 0 ∷ 203 ∷ 69 ∷ 42 ∷ 9 ∷ 82 ∷ 0 ∷ 204 ∷ 24 ∷ 168 ∷ 5 ∷ 0 ∷ 192 ∷ 82 ∷ 0 ∷ 18 ∷ 139 ∷ 67 ∷ 0 ∷ 52 ∷ 0 ∷ 98 ∷ []) } ∷ [];
  tapes = [];
  loads = [];
  commands = record { host = 3; target = 1; unit = 7; at = 24081; tag = tags.Ordered 0; cdb = (10 ∷ 0 ∷ 0 ∷ 0 ∷ 2 ∷ 0 ∷ []); payload = payloads.From 227 } ∷ record { host = 3; target = 1; unit = 7; at = 19892; tag = tags.Untagged; cdb = (42 ∷ 8 ∷ 0 ∷ 0 ∷ 0 ∷ 0 ∷ 0 ∷ 0 ∷ 2 ∷ 0 ∷ []); payload = payloads.From 197 } ∷ record { host = 3; target = 0; unit = 0; at = 37; tag = tags.Simple 255; cdb = (10 ∷ 0 ∷ 0 ∷ 0 ∷ 1 ∷ 0 ∷ []); payload = payloads.From 192 } ∷ [];
  aborts = record { host = 3; target = 0; unit = 0; at = 83587; what = aborts.WholeQueue } ∷ record { host = 3; target = 0; unit = 0; at = 133964; what = aborts.WholeQueue } ∷ record { host = 3; target = 1; unit = 4; at = 83662; what = (aborts.Tag 255) } ∷ [];
  resets = record { dev = 1; at = 94094 } ∷ record { dev = 0; at = 40497 } ∷ record { dev = 0; at = 52332 } ∷ [];
  faults = record { at = 78119; bit = 0 } ∷ record { at = 95839; bit = 5 } ∷ record { at = 36691; bit = 6 } ∷ [];
}

abbrev pub failures_run_rows : List Row
failures_run_rows = drive 24181 3 0x00208 ∷ drive 26681 3 0x00608 ∷ drive 27981 3 0x1070a ∷ drive 28171 3 0x1050a ∷ drive 28671 1 0x00200 ∷ drive 28861 3 0x10000 ∷ drive 28961 1 0x02a00 ∷ drive 29461 1 0x06a00 ∷ drive 29561 3 0x100c7 ∷ drive 29716 3 0x180c7 ∷ drive 29816 1 0x02a00 ∷ drive 29916 3 0x10000 ∷ drive 30016 1 0x06a00 ∷ drive 30116 3 0x10122 ∷ drive 30271 3 0x18122 ∷ drive 30371 1 0x02a00 ∷ drive 30471 3 0x10000 ∷ drive 30571 1 0x06a00 ∷ drive 30671 3 0x10100 ∷ drive 30826 3 0x18100 ∷ drive 30926 1 0x02a00 ∷ drive 31026 3 0x10000 ∷ drive 31126 1 0x06a00 ∷ drive 31226 3 0x10001 ∷ drive 31381 3 0x18001 ∷ drive 31481 1 0x02a00 ∷ drive 31581 3 0x10000 ∷ drive 31681 1 0x06a00 ∷ drive 31781 3 0x10103 ∷ drive 31936 3 0x18103 ∷ drive 32036 1 0x02a00 ∷ drive 32136 3 0x10000 ∷ drive 32236 1 0x06a00 ∷ drive 32336 3 0x10001 ∷ drive 32491 3 0x18001 ∷ drive 32591 1 0x02a00 ∷ drive 32691 3 0x10000 ∷ drive 32791 1 0x06a00 ∷ drive 32891 3 0x10019 ∷ drive 33046 3 0x18019 ∷ drive 33146 1 0x02a00 ∷ drive 33246 3 0x10000 ∷ drive 33346 1 0x06a00 ∷ drive 33446 3 0x00008 ∷ drive 33636 3 0x08008 ∷ drive 33736 1 0x02a00 ∷ drive 33836 3 0x00000 ∷ drive 33936 1 0x03a00 ∷ drive 34836 1 0x03a01 ∷ drive 34991 1 0x07a01 ∷ drive 35091 3 0x08000 ∷ drive 35191 1 0x03b03 ∷ drive 35291 3 0x00000 ∷ drive 35391 1 0x07b03 ∷ drive 35491 3 0x08000 ∷ drive 35591 1 0x03a01 ∷ drive 35691 3 0x00000 ∷ drive 35791 1 0x07a01 ∷ drive 35891 3 0x08000 ∷ drive 35991 1 0x03a31 ∷ drive 36091 3 0x00000 ∷ drive 36191 1 0x07a31 ∷ drive 36291 3 0x08000 ∷ drive 36391 1 0x03a08 ∷ drive 36491 3 0x00000 ∷ drive 36591 1 0x07a08 ∷ drive 36691 3 0x08000 ∷ drive 36791 1 0x03a00 ∷ drive 36891 3 0x00000 ∷ drive 36991 1 0x00a00 ∷ drive 37491 1 0x04a00 ∷ drive 37591 3 0x0010a ∷ drive 37746 3 0x0810a ∷ strike 37746 1 6 ∷ drive 37846 1 0x00a00 ∷ drive 37946 3 0x00000 ∷ drive 38046 1 0x01a00 ∷ drive 38946 1 0x01a02 ∷ drive 39101 1 0x05a02 ∷ drive 39201 3 0x08000 ∷ drive 39301 1 0x01a00 ∷ drive 39401 3 0x00000 ∷ drive 39501 1 0x03b00 ∷ drive 40001 1 0x07b00 ∷ drive 40101 3 0x08000 ∷ drive 40201 1 0x03a00 ∷ drive 40301 3 0x00000 ∷ drive 40401 1 0x00000 ∷ drive 40497 0 0x20000 ∷ drive 65497 0 0x00000 ∷ drive 66797 3 0x00208 ∷ drive 69297 3 0x00608 ∷ drive 70597 3 0x1070a ∷ drive 70787 3 0x1050a ∷ drive 71287 1 0x00200 ∷ drive 71477 3 0x10000 ∷ drive 71577 1 0x02a00 ∷ drive 72077 1 0x06a00 ∷ drive 72177 3 0x000c7 ∷ drive 72367 3 0x080c7 ∷ drive 72467 1 0x02a00 ∷ drive 72567 3 0x00000 ∷ drive 72667 1 0x00a00 ∷ drive 73167 1 0x04a00 ∷ drive 73267 3 0x0002a ∷ drive 73422 3 0x0802a ∷ drive 73522 1 0x00a00 ∷ drive 73622 3 0x00000 ∷ drive 73722 1 0x04a00 ∷ drive 73822 3 0x00008 ∷ drive 73977 3 0x08008 ∷ drive 74077 1 0x00a00 ∷ drive 74177 3 0x00000 ∷ drive 74277 1 0x04a00 ∷ drive 74377 3 0x00100 ∷ drive 74532 3 0x08100 ∷ drive 74632 1 0x00a00 ∷ drive 74732 3 0x00000 ∷ drive 74832 1 0x04a00 ∷ drive 74932 3 0x00100 ∷ drive 75087 3 0x08100 ∷ drive 75187 1 0x00a00 ∷ drive 75287 3 0x00000 ∷ drive 75387 1 0x04a00 ∷ drive 75487 3 0x00100 ∷ drive 75642 3 0x08100 ∷ drive 75742 1 0x00a00 ∷ drive 75842 3 0x00000 ∷ drive 75942 1 0x04a00 ∷ drive 76042 3 0x00100 ∷ drive 76197 3 0x08100 ∷ drive 76297 1 0x00a00 ∷ drive 76397 3 0x00000 ∷ drive 76497 1 0x04a00 ∷ drive 76597 3 0x00100 ∷ drive 76752 3 0x08100 ∷ drive 76852 1 0x00a00 ∷ drive 76952 3 0x00000 ∷ drive 77052 1 0x04a00 ∷ drive 77152 3 0x00100 ∷ drive 77307 3 0x08100 ∷ drive 77407 1 0x00a00 ∷ drive 77507 3 0x00000 ∷ drive 77607 1 0x04a00 ∷ drive 77707 3 0x00002 ∷ drive 77862 3 0x08002 ∷ drive 77962 1 0x00a00 ∷ drive 78062 3 0x00000 ∷ drive 78162 1 0x04a00 ∷ drive 78262 3 0x00100 ∷ drive 78417 3 0x08100 ∷ strike 78417 1 0 ∷ drive 78517 1 0x00a00 ∷ drive 78617 3 0x00000 ∷ drive 78717 1 0x01a00 ∷ drive 79617 1 0x01a02 ∷ drive 79772 1 0x05a02 ∷ drive 79872 3 0x08000 ∷ drive 79972 1 0x01a00 ∷ drive 80072 3 0x00000 ∷ drive 80172 1 0x03b00 ∷ drive 80672 1 0x07b00 ∷ drive 80772 3 0x08000 ∷ drive 80872 1 0x03a00 ∷ drive 80972 3 0x00000 ∷ drive 81072 1 0x00000 ∷ drive 82372 3 0x00208 ∷ drive 84872 3 0x00608 ∷ drive 86172 3 0x1070a ∷ drive 86362 3 0x1050a ∷ drive 86862 1 0x00200 ∷ drive 87052 3 0x10000 ∷ drive 87152 1 0x02a00 ∷ drive 87652 1 0x06a00 ∷ drive 87752 3 0x00187 ∷ drive 87942 3 0x08187 ∷ drive 88042 1 0x02a00 ∷ drive 88142 3 0x00000 ∷ drive 88242 1 0x00a00 ∷ drive 88742 1 0x04a00 ∷ drive 88842 3 0x00103 ∷ drive 88997 3 0x08103 ∷ drive 89097 1 0x00a00 ∷ drive 89197 3 0x00000 ∷ drive 89297 1 0x04a00 ∷ drive 89397 3 0x00100 ∷ drive 89552 3 0x08100 ∷ drive 89652 1 0x00a00 ∷ drive 89752 3 0x00000 ∷ drive 89852 1 0x04a00 ∷ drive 89952 3 0x00100 ∷ drive 90107 3 0x08100 ∷ drive 90207 1 0x00a00 ∷ drive 90307 3 0x00000 ∷ drive 90407 1 0x04a00 ∷ drive 90507 3 0x00100 ∷ drive 90662 3 0x08100 ∷ drive 90762 1 0x00a00 ∷ drive 90862 3 0x00000 ∷ drive 90962 1 0x04a00 ∷ drive 91062 3 0x00112 ∷ drive 91217 3 0x08112 ∷ drive 91317 1 0x00a00 ∷ drive 91417 3 0x00000 ∷ drive 91517 1 0x04a00 ∷ drive 91617 3 0x00100 ∷ drive 91772 3 0x08100 ∷ drive 91872 1 0x00a00 ∷ drive 91972 3 0x00000 ∷ drive 92072 1 0x01200 ∷ drive 92972 1 0x01270 ∷ drive 93127 1 0x05270 ∷ drive 93227 3 0x08000 ∷ drive 93327 1 0x01300 ∷ drive 93427 3 0x00000 ∷ drive 93527 1 0x05300 ∷ drive 93627 3 0x08000 ∷ drive 93727 1 0x0120b ∷ drive 93827 3 0x00000 ∷ drive 93927 1 0x0520b ∷ drive 94027 3 0x08000 ∷ drive 94094 1 0x20000 ∷ drive 94194 3 0x00000 ∷ drive 119194 1 0x00000 ∷ drive 120494 3 0x00208 ∷ drive 122994 3 0x00608 ∷ drive 124294 3 0x10709 ∷ drive 124484 3 0x10509 ∷ strike 124884 0 5 ∷ drive 250124584 3 0x10400 ∷ drive 250324774 3 0x00000 ∷ drive 250326074 3 0x00208 ∷ drive 250328574 3 0x00608 ∷ drive 250329874 3 0x10709 ∷ drive 250330064 3 0x10509 ∷ drive 250330464 0 0x00200 ∷ drive 250330654 3 0x10000 ∷ drive 250330654 0 0x02a00 ∷ drive 250331054 0 0x06a00 ∷ drive 250331154 3 0x10080 ∷ drive 250331309 3 0x18080 ∷ drive 250331309 0 0x02a00 ∷ drive 250331409 3 0x10000 ∷ drive 250331409 0 0x06a00 ∷ drive 250331509 3 0x0000e ∷ drive 250331699 3 0x0800e ∷ drive 250331699 0 0x02a00 ∷ drive 250331799 3 0x00000 ∷ drive 250331799 0 0x00000 ∷ drive 250333099 3 0x00208 ∷ drive 250335599 3 0x00608 ∷ drive 250336899 3 0x1070a ∷ drive 250337089 3 0x1050a ∷ drive 250337589 1 0x00200 ∷ drive 250337779 3 0x10000 ∷ drive 250337879 1 0x02a00 ∷ drive 250338379 1 0x06a00 ∷ drive 250338479 3 0x10184 ∷ drive 250338634 3 0x18184 ∷ drive 250338734 1 0x02a00 ∷ drive 250338834 3 0x10000 ∷ drive 250338934 1 0x06a00 ∷ drive 250339034 3 0x10020 ∷ drive 250339189 3 0x18020 ∷ drive 250339289 1 0x02a00 ∷ drive 250339389 3 0x10000 ∷ drive 250339489 1 0x06a00 ∷ drive 250339589 3 0x101ff ∷ drive 250339744 3 0x181ff ∷ drive 250339844 1 0x02a00 ∷ drive 250339944 3 0x10000 ∷ drive 250340044 1 0x06a00 ∷ drive 250340144 3 0x0000d ∷ drive 250340334 3 0x0800d ∷ drive 250340434 1 0x02a00 ∷ drive 250340534 3 0x00000 ∷ drive 250340634 1 0x00000 ∷ drive 250341934 3 0x00208 ∷ drive 250344434 3 0x00608 ∷ drive 250345734 3 0x10709 ∷ drive 250345924 3 0x10509 ∷ drive 250346324 0 0x00200 ∷ drive 250346514 3 0x10000 ∷ drive 250346514 0 0x02a00 ∷ drive 250346914 0 0x06a00 ∷ drive 250347014 3 0x101c0 ∷ drive 250347169 3 0x181c0 ∷ drive 250347169 0 0x02a00 ∷ drive 250347269 3 0x10000 ∷ drive 250347269 0 0x06a00 ∷ drive 250347369 3 0x10020 ∷ drive 250347524 3 0x18020 ∷ drive 250347524 0 0x02a00 ∷ drive 250347624 3 0x10000 ∷ drive 250347624 0 0x06a00 ∷ drive 250347724 3 0x001ff ∷ drive 250347914 3 0x081ff ∷ drive 250347914 0 0x02a00 ∷ drive 250348014 3 0x00000 ∷ drive 250348014 0 0x00a00 ∷ drive 250348414 0 0x04a00 ∷ drive 250348514 3 0x0010a ∷ drive 250348669 3 0x0810a ∷ drive 250348669 0 0x00a00 ∷ drive 250348769 3 0x00000 ∷ drive 250348769 0 0x04a00 ∷ drive 250348869 3 0x00100 ∷ drive 250349024 3 0x08100 ∷ drive 250349024 0 0x00a00 ∷ drive 250349124 3 0x00000 ∷ drive 250349124 0 0x04a00 ∷ drive 250349224 3 0x00100 ∷ drive 250349379 3 0x08100 ∷ drive 250349379 0 0x00a00 ∷ drive 250349479 3 0x00000 ∷ drive 250349479 0 0x04a00 ∷ drive 250349579 3 0x00100 ∷ drive 250349734 3 0x08100 ∷ drive 250349734 0 0x00a00 ∷ drive 250349834 3 0x00000 ∷ drive 250349834 0 0x04a00 ∷ drive 250349934 3 0x00001 ∷ drive 250350089 3 0x08001 ∷ drive 250350089 0 0x00a00 ∷ drive 250350189 3 0x00000 ∷ drive 250350189 0 0x04a00 ∷ drive 250350289 3 0x00100 ∷ drive 250350444 3 0x08100 ∷ drive 250350444 0 0x00a00 ∷ drive 250350544 3 0x00000 ∷ drive 250350544 0 0x01a00 ∷ drive 250351344 0 0x01a02 ∷ drive 250351399 0 0x05a02 ∷ drive 250351499 3 0x08000 ∷ drive 250351499 0 0x01a00 ∷ drive 250351599 3 0x00000 ∷ drive 250351599 0 0x03b00 ∷ drive 250351999 0 0x07b00 ∷ drive 250352099 3 0x08000 ∷ drive 250352099 0 0x03a00 ∷ drive 250352199 3 0x00000 ∷ drive 250352199 0 0x00000 ∷ drive 250353499 3 0x00208 ∷ drive 250355999 3 0x00608 ∷ drive 250357299 3 0x10709 ∷ drive 250357489 3 0x10509 ∷ drive 250357889 0 0x00200 ∷ drive 250358079 3 0x10000 ∷ drive 250358079 0 0x02a00 ∷ drive 250358479 0 0x06a00 ∷ drive 250358579 3 0x00080 ∷ drive 250358769 3 0x08080 ∷ drive 250358769 0 0x02a00 ∷ drive 250358869 3 0x00000 ∷ drive 250358869 0 0x00a00 ∷ drive 250359269 0 0x04a00 ∷ drive 250359369 3 0x00103 ∷ drive 250359524 3 0x08103 ∷ drive 250359524 0 0x00a00 ∷ drive 250359624 3 0x00000 ∷ drive 250359624 0 0x04a00 ∷ drive 250359724 3 0x00100 ∷ drive 250359879 3 0x08100 ∷ drive 250359879 0 0x00a00 ∷ drive 250359979 3 0x00000 ∷ drive 250359979 0 0x04a00 ∷ drive 250360079 3 0x00100 ∷ drive 250360234 3 0x08100 ∷ drive 250360234 0 0x00a00 ∷ drive 250360334 3 0x00000 ∷ drive 250360334 0 0x04a00 ∷ drive 250360434 3 0x00100 ∷ drive 250360589 3 0x08100 ∷ drive 250360589 0 0x00a00 ∷ drive 250360689 3 0x00000 ∷ drive 250360689 0 0x04a00 ∷ drive 250360789 3 0x00112 ∷ drive 250360944 3 0x08112 ∷ drive 250360944 0 0x00a00 ∷ drive 250361044 3 0x00000 ∷ drive 250361044 0 0x04a00 ∷ drive 250361144 3 0x00100 ∷ drive 250361299 3 0x08100 ∷ drive 250361299 0 0x00a00 ∷ drive 250361399 3 0x00000 ∷ drive 250361399 0 0x01200 ∷ drive 250362199 0 0x01270 ∷ drive 250362254 0 0x05270 ∷ drive 250362354 3 0x08000 ∷ drive 250362354 0 0x01300 ∷ drive 250362454 3 0x00000 ∷ drive 250362454 0 0x05300 ∷ drive 250362554 3 0x08000 ∷ drive 250362554 0 0x01306 ∷ drive 250362654 3 0x00000 ∷ drive 250362654 0 0x05306 ∷ drive 250362754 3 0x08000 ∷ drive 250362754 0 0x01300 ∷ drive 250362854 3 0x00000 ∷ drive 250362854 0 0x05300 ∷ drive 250362954 3 0x08000 ∷ drive 250362954 0 0x01300 ∷ drive 250363054 3 0x00000 ∷ drive 250363054 0 0x05300 ∷ drive 250363154 3 0x08000 ∷ drive 250363154 0 0x01300 ∷ drive 250363254 3 0x00000 ∷ drive 250363254 0 0x05300 ∷ drive 250363354 3 0x08000 ∷ drive 250363354 0 0x01300 ∷ drive 250363454 3 0x00000 ∷ drive 250363454 0 0x05300 ∷ drive 250363554 3 0x08000 ∷ drive 250363554 0 0x0130a ∷ drive 250363654 3 0x00000 ∷ drive 250363654 0 0x0530a ∷ drive 250363754 3 0x08000 ∷ drive 250363754 0 0x01300 ∷ drive 250363854 3 0x00000 ∷ drive 250363854 0 0x05300 ∷ drive 250363954 3 0x08000 ∷ drive 250363954 0 0x01300 ∷ drive 250364054 3 0x00000 ∷ drive 250364054 0 0x05300 ∷ drive 250364154 3 0x08000 ∷ drive 250364154 0 0x01300 ∷ drive 250364254 3 0x00000 ∷ drive 250364254 0 0x05300 ∷ drive 250364354 3 0x08000 ∷ drive 250364354 0 0x01300 ∷ drive 250364454 3 0x00000 ∷ drive 250364454 0 0x05300 ∷ drive 250364554 3 0x08000 ∷ drive 250364554 0 0x01229 ∷ drive 250364654 3 0x00000 ∷ drive 250364654 0 0x05229 ∷ drive 250364754 3 0x08000 ∷ drive 250364754 0 0x01300 ∷ drive 250364854 3 0x00000 ∷ drive 250364854 0 0x05300 ∷ drive 250364954 3 0x08000 ∷ drive 250364954 0 0x01300 ∷ drive 250365054 3 0x00000 ∷ drive 250365054 0 0x05300 ∷ drive 250365154 3 0x08000 ∷ drive 250365154 0 0x01300 ∷ drive 250365254 3 0x00000 ∷ drive 250365254 0 0x05300 ∷ drive 250365354 3 0x08000 ∷ drive 250365354 0 0x01300 ∷ drive 250365454 3 0x00000 ∷ drive 250365454 0 0x05300 ∷ drive 250365554 3 0x08000 ∷ drive 250365554 0 0x01300 ∷ drive 250365654 3 0x00000 ∷ drive 250365654 0 0x05300 ∷ drive 250365754 3 0x08000 ∷ drive 250365754 0 0x01200 ∷ drive 250365854 3 0x00000 ∷ drive 250365854 0 0x01b00 ∷ drive 250366254 0 0x05b00 ∷ drive 250366354 3 0x08000 ∷ drive 250366354 0 0x01a00 ∷ drive 250366454 3 0x00000 ∷ drive 250366454 0 0x03b00 ∷ drive 250366854 0 0x07b00 ∷ drive 250366954 3 0x08000 ∷ drive 250366954 0 0x03a00 ∷ drive 250367054 3 0x00000 ∷ drive 250367054 0 0x00000 ∷ []

abbrev failures_run_events : List Event
failures_run_events = events.Fail (command 1) 71 ∷ events.End (command 1) 2 ∷ events.Reset 0 ∷ events.Fail (command 2) 71 ∷ events.End (command 2) 2 ∷ events.Accept (sense 2) ∷ events.Reset 1 ∷ events.Aborted 3 0 0 aborts.WholeQueue ∷ events.Aborted 3 1 4 (aborts.Tag 255) ∷ events.Accept (command 3) ∷ events.Run (command 3) ∷ events.End (command 3) 2 ∷ events.Accept (sense 3) ∷ events.Run (sense 3) ∷ events.End (sense 3) 0 ∷ []

failures_run_told : shown failures_run (story failures_run (reverse failures_run_rows)) (reverse failures_run_events) ≡ record { history = reverse failures_run_events; ends = Some (ended_check None) ∷ Some (ended_check None) ∷ Some (ended_check (Some (sense_of 6 41 0))) ∷ []; carried = true }
unfolding need_of sent_of ones union_below line_of form_out form_in
failures_run_told = refl

failures_run_struck : expected_strikes failures_run (reverse failures_run_rows) ≡ row_strikes failures_run_rows
unfolding need_of sent_of ones union_below line_of form_out form_in
failures_run_struck = refl

-- ---- full_run

abbrev full_run : ScenarioValue
full_run = record {
  version = 1;
  hosts = record { dev = 6; latency = 0; most = 8; retries = 2; period = 0; offset = 0; lag = 0; offers = true } ∷ record { dev = 7; latency = 0; most = 8; retries = 2; period = 0; offset = 0; lag = 0; offers = true } ∷ [];
  targets = record { dev = 0; latency = 0; retries = 2; disc = policies.Command; pick = picks.First; seek = 1000000; period = 0; offset = 0; begins = false } ∷ [];
  units = record { target = 0; unit = 0; blocks = 2; size = 16; depth = 3 } ∷ record { target = 0; unit = 1; blocks = 2; size = 16; depth = 1 } ∷ [];
  fills = [];
  tapes = [];
  loads = [];
  commands = record { host = 7; target = 0; unit = 0; at = 0; tag = tags.Simple 1; cdb = (10 ∷ 0 ∷ 0 ∷ 1 ∷ 1 ∷ 0 ∷ []); payload = payloads.From 16 } ∷ record { host = 6; target = 0; unit = 0; at = 0; tag = tags.Simple 2; cdb = (10 ∷ 0 ∷ 0 ∷ 1 ∷ 1 ∷ 0 ∷ []); payload = payloads.From 32 } ∷ record { host = 6; target = 0; unit = 0; at = 0; tag = tags.Simple 9; cdb = (10 ∷ 0 ∷ 0 ∷ 0 ∷ 1 ∷ 0 ∷ []); payload = payloads.From 80 } ∷ record { host = 7; target = 0; unit = 0; at = 50000; tag = tags.Head 3; cdb = (10 ∷ 0 ∷ 0 ∷ 0 ∷ 1 ∷ 0 ∷ []); payload = payloads.From 48 } ∷ record { host = 6; target = 0; unit = 1; at = 100000; tag = tags.Ordered 4; cdb = (10 ∷ 0 ∷ 0 ∷ 0 ∷ 1 ∷ 0 ∷ []); payload = payloads.From 64 } ∷ record { host = 6; target = 0; unit = 1; at = 100000; tag = tags.Simple 5; cdb = (18 ∷ 0 ∷ 0 ∷ 0 ∷ 36 ∷ 0 ∷ []); payload = payloads.Nothing } ∷ record { host = 7; target = 0; unit = 1; at = 100000; tag = tags.Untagged; cdb = (3 ∷ 0 ∷ 0 ∷ 0 ∷ 4 ∷ 0 ∷ []); payload = payloads.Nothing } ∷ [];
  aborts = record { host = 6; target = 0; unit = 0; at = 150000; what = (aborts.Tag 2) } ∷ record { host = 6; target = 0; unit = 1; at = 3000000; what = aborts.Device } ∷ [];
  resets = [];
  faults = [];
}

abbrev pub full_run_rows : List Row
full_run_rows = drive 1200 7 0x00280 ∷ drive 1200 6 0x00240 ∷ drive 3600 7 0x00680 ∷ drive 3600 6 0x00000 ∷ drive 4800 7 0x10781 ∷ drive 4890 7 0x10581 ∷ drive 5290 0 0x00200 ∷ drive 5380 7 0x10000 ∷ drive 5380 0 0x02a00 ∷ drive 5780 0 0x06a00 ∷ drive 5780 7 0x101c0 ∷ drive 5835 7 0x181c0 ∷ drive 5835 0 0x02a00 ∷ drive 5835 7 0x10000 ∷ drive 5835 0 0x06a00 ∷ drive 5835 7 0x10020 ∷ drive 5890 7 0x18020 ∷ drive 5890 0 0x02a00 ∷ drive 5890 7 0x10000 ∷ drive 5890 0 0x06a00 ∷ drive 5890 7 0x00001 ∷ drive 5980 7 0x08001 ∷ drive 5980 0 0x02a00 ∷ drive 5980 7 0x00000 ∷ drive 5980 0 0x00a00 ∷ drive 6380 0 0x04a00 ∷ drive 6380 7 0x0010a ∷ drive 6435 7 0x0810a ∷ drive 6435 0 0x00a00 ∷ drive 6435 7 0x00000 ∷ drive 6435 0 0x04a00 ∷ drive 6435 7 0x00100 ∷ drive 6490 7 0x08100 ∷ drive 6490 0 0x00a00 ∷ drive 6490 7 0x00000 ∷ drive 6490 0 0x04a00 ∷ drive 6490 7 0x00100 ∷ drive 6545 7 0x08100 ∷ drive 6545 0 0x00a00 ∷ drive 6545 7 0x00000 ∷ drive 6545 0 0x04a00 ∷ drive 6545 7 0x00001 ∷ drive 6600 7 0x08001 ∷ drive 6600 0 0x00a00 ∷ drive 6600 7 0x00000 ∷ drive 6600 0 0x04a00 ∷ drive 6600 7 0x00001 ∷ drive 6655 7 0x08001 ∷ drive 6655 0 0x00a00 ∷ drive 6655 7 0x00000 ∷ drive 6655 0 0x04a00 ∷ drive 6655 7 0x00100 ∷ drive 6710 7 0x08100 ∷ drive 6710 0 0x00a00 ∷ drive 6710 7 0x00000 ∷ drive 6710 0 0x03a00 ∷ drive 7510 0 0x03a04 ∷ drive 7565 0 0x07a04 ∷ drive 7565 7 0x08000 ∷ drive 7565 0 0x03a00 ∷ drive 7565 7 0x00000 ∷ drive 7565 0 0x00000 ∷ drive 8765 6 0x00240 ∷ drive 11165 6 0x00640 ∷ drive 12365 6 0x10741 ∷ drive 12455 6 0x10541 ∷ drive 12855 0 0x00200 ∷ drive 12945 6 0x10000 ∷ drive 12945 0 0x02a00 ∷ drive 13345 0 0x06a00 ∷ drive 13345 6 0x101c0 ∷ drive 13400 6 0x181c0 ∷ drive 13400 0 0x02a00 ∷ drive 13400 6 0x10000 ∷ drive 13400 0 0x06a00 ∷ drive 13400 6 0x10020 ∷ drive 13455 6 0x18020 ∷ drive 13455 0 0x02a00 ∷ drive 13455 6 0x10000 ∷ drive 13455 0 0x06a00 ∷ drive 13455 6 0x00002 ∷ drive 13545 6 0x08002 ∷ drive 13545 0 0x02a00 ∷ drive 13545 6 0x00000 ∷ drive 13545 0 0x00a00 ∷ drive 13945 0 0x04a00 ∷ drive 13945 6 0x0010a ∷ drive 14000 6 0x0810a ∷ drive 14000 0 0x00a00 ∷ drive 14000 6 0x00000 ∷ drive 14000 0 0x04a00 ∷ drive 14000 6 0x00100 ∷ drive 14055 6 0x08100 ∷ drive 14055 0 0x00a00 ∷ drive 14055 6 0x00000 ∷ drive 14055 0 0x04a00 ∷ drive 14055 6 0x00100 ∷ drive 14110 6 0x08100 ∷ drive 14110 0 0x00a00 ∷ drive 14110 6 0x00000 ∷ drive 14110 0 0x04a00 ∷ drive 14110 6 0x00001 ∷ drive 14165 6 0x08001 ∷ drive 14165 0 0x00a00 ∷ drive 14165 6 0x00000 ∷ drive 14165 0 0x04a00 ∷ drive 14165 6 0x00001 ∷ drive 14220 6 0x08001 ∷ drive 14220 0 0x00a00 ∷ drive 14220 6 0x00000 ∷ drive 14220 0 0x04a00 ∷ drive 14220 6 0x00100 ∷ drive 14275 6 0x08100 ∷ drive 14275 0 0x00a00 ∷ drive 14275 6 0x00000 ∷ drive 14275 0 0x03a00 ∷ drive 15075 0 0x03a04 ∷ drive 15130 0 0x07a04 ∷ drive 15130 6 0x08000 ∷ drive 15130 0 0x03a00 ∷ drive 15130 6 0x00000 ∷ drive 15130 0 0x00000 ∷ drive 16330 6 0x00240 ∷ drive 18730 6 0x00640 ∷ drive 19930 6 0x10741 ∷ drive 20020 6 0x10541 ∷ drive 20420 0 0x00200 ∷ drive 20510 6 0x10000 ∷ drive 20510 0 0x02a00 ∷ drive 20910 0 0x06a00 ∷ drive 20910 6 0x101c0 ∷ drive 20965 6 0x181c0 ∷ drive 20965 0 0x02a00 ∷ drive 20965 6 0x10000 ∷ drive 20965 0 0x06a00 ∷ drive 20965 6 0x10020 ∷ drive 21020 6 0x18020 ∷ drive 21020 0 0x02a00 ∷ drive 21020 6 0x10000 ∷ drive 21020 0 0x06a00 ∷ drive 21020 6 0x00109 ∷ drive 21110 6 0x08109 ∷ drive 21110 0 0x02a00 ∷ drive 21110 6 0x00000 ∷ drive 21110 0 0x00a00 ∷ drive 21510 0 0x04a00 ∷ drive 21510 6 0x0010a ∷ drive 21565 6 0x0810a ∷ drive 21565 0 0x00a00 ∷ drive 21565 6 0x00000 ∷ drive 21565 0 0x04a00 ∷ drive 21565 6 0x00100 ∷ drive 21620 6 0x08100 ∷ drive 21620 0 0x00a00 ∷ drive 21620 6 0x00000 ∷ drive 21620 0 0x04a00 ∷ drive 21620 6 0x00100 ∷ drive 21675 6 0x08100 ∷ drive 21675 0 0x00a00 ∷ drive 21675 6 0x00000 ∷ drive 21675 0 0x04a00 ∷ drive 21675 6 0x00100 ∷ drive 21730 6 0x08100 ∷ drive 21730 0 0x00a00 ∷ drive 21730 6 0x00000 ∷ drive 21730 0 0x04a00 ∷ drive 21730 6 0x00001 ∷ drive 21785 6 0x08001 ∷ drive 21785 0 0x00a00 ∷ drive 21785 6 0x00000 ∷ drive 21785 0 0x04a00 ∷ drive 21785 6 0x00100 ∷ drive 21840 6 0x08100 ∷ drive 21840 0 0x00a00 ∷ drive 21840 6 0x00000 ∷ drive 21840 0 0x03a00 ∷ drive 22640 0 0x03a04 ∷ drive 22695 0 0x07a04 ∷ drive 22695 6 0x08000 ∷ drive 22695 0 0x03a00 ∷ drive 22695 6 0x00000 ∷ drive 22695 0 0x00000 ∷ drive 50000 7 0x00280 ∷ drive 52400 7 0x00680 ∷ drive 53600 7 0x10781 ∷ drive 53690 7 0x10581 ∷ drive 54090 0 0x00200 ∷ drive 54180 7 0x10000 ∷ drive 54180 0 0x02a00 ∷ drive 54580 0 0x06a00 ∷ drive 54580 7 0x101c0 ∷ drive 54635 7 0x181c0 ∷ drive 54635 0 0x02a00 ∷ drive 54635 7 0x10000 ∷ drive 54635 0 0x06a00 ∷ drive 54635 7 0x10121 ∷ drive 54690 7 0x18121 ∷ drive 54690 0 0x02a00 ∷ drive 54690 7 0x10000 ∷ drive 54690 0 0x06a00 ∷ drive 54690 7 0x00103 ∷ drive 54780 7 0x08103 ∷ drive 54780 0 0x02a00 ∷ drive 54780 7 0x00000 ∷ drive 54780 0 0x00a00 ∷ drive 55180 0 0x04a00 ∷ drive 55180 7 0x0010a ∷ drive 55235 7 0x0810a ∷ drive 55235 0 0x00a00 ∷ drive 55235 7 0x00000 ∷ drive 55235 0 0x04a00 ∷ drive 55235 7 0x00100 ∷ drive 55290 7 0x08100 ∷ drive 55290 0 0x00a00 ∷ drive 55290 7 0x00000 ∷ drive 55290 0 0x04a00 ∷ drive 55290 7 0x00100 ∷ drive 55345 7 0x08100 ∷ drive 55345 0 0x00a00 ∷ drive 55345 7 0x00000 ∷ drive 55345 0 0x04a00 ∷ drive 55345 7 0x00100 ∷ drive 55400 7 0x08100 ∷ drive 55400 0 0x00a00 ∷ drive 55400 7 0x00000 ∷ drive 55400 0 0x04a00 ∷ drive 55400 7 0x00001 ∷ drive 55455 7 0x08001 ∷ drive 55455 0 0x00a00 ∷ drive 55455 7 0x00000 ∷ drive 55455 0 0x04a00 ∷ drive 55455 7 0x00100 ∷ drive 55510 7 0x08100 ∷ drive 55510 0 0x00a00 ∷ drive 55510 7 0x00000 ∷ drive 55510 0 0x01a00 ∷ drive 56310 0 0x01b28 ∷ drive 56365 0 0x05b28 ∷ drive 56365 7 0x08000 ∷ drive 56365 0 0x01a00 ∷ drive 56365 7 0x00000 ∷ drive 56365 0 0x03b00 ∷ drive 56765 0 0x07b00 ∷ drive 56765 7 0x08000 ∷ drive 56765 0 0x03a00 ∷ drive 56765 7 0x00000 ∷ drive 56765 0 0x00000 ∷ drive 100000 7 0x00280 ∷ drive 100000 6 0x00240 ∷ drive 102400 7 0x00680 ∷ drive 102400 6 0x00000 ∷ drive 103600 7 0x10781 ∷ drive 103690 7 0x10581 ∷ drive 104090 0 0x00200 ∷ drive 104180 7 0x10000 ∷ drive 104180 0 0x02a00 ∷ drive 104580 0 0x06a00 ∷ drive 104580 7 0x000c1 ∷ drive 104670 7 0x080c1 ∷ drive 104670 0 0x02a00 ∷ drive 104670 7 0x00000 ∷ drive 104670 0 0x00a00 ∷ drive 105070 0 0x04a00 ∷ drive 105070 7 0x00103 ∷ drive 105125 7 0x08103 ∷ drive 105125 0 0x00a00 ∷ drive 105125 7 0x00000 ∷ drive 105125 0 0x04a00 ∷ drive 105125 7 0x00100 ∷ drive 105180 7 0x08100 ∷ drive 105180 0 0x00a00 ∷ drive 105180 7 0x00000 ∷ drive 105180 0 0x04a00 ∷ drive 105180 7 0x00100 ∷ drive 105235 7 0x08100 ∷ drive 105235 0 0x00a00 ∷ drive 105235 7 0x00000 ∷ drive 105235 0 0x04a00 ∷ drive 105235 7 0x00100 ∷ drive 105290 7 0x08100 ∷ drive 105290 0 0x00a00 ∷ drive 105290 7 0x00000 ∷ drive 105290 0 0x04a00 ∷ drive 105290 7 0x00004 ∷ drive 105345 7 0x08004 ∷ drive 105345 0 0x00a00 ∷ drive 105345 7 0x00000 ∷ drive 105345 0 0x04a00 ∷ drive 105345 7 0x00100 ∷ drive 105400 7 0x08100 ∷ drive 105400 0 0x00a00 ∷ drive 105400 7 0x00000 ∷ drive 105400 0 0x01200 ∷ drive 106200 0 0x01270 ∷ drive 106255 0 0x05270 ∷ drive 106255 7 0x08000 ∷ drive 106255 0 0x01300 ∷ drive 106255 7 0x00000 ∷ drive 106310 0 0x05300 ∷ drive 106310 7 0x08000 ∷ drive 106310 0 0x01300 ∷ drive 106310 7 0x00000 ∷ drive 106365 0 0x05300 ∷ drive 106365 7 0x08000 ∷ drive 106365 0 0x01300 ∷ drive 106365 7 0x00000 ∷ drive 106420 0 0x05300 ∷ drive 106420 7 0x08000 ∷ drive 106420 0 0x01200 ∷ drive 106420 7 0x00000 ∷ drive 106420 0 0x01b00 ∷ drive 106820 0 0x05b00 ∷ drive 106820 7 0x08000 ∷ drive 106820 0 0x01a00 ∷ drive 106820 7 0x00000 ∷ drive 106820 0 0x03b00 ∷ drive 107220 0 0x07b00 ∷ drive 107220 7 0x08000 ∷ drive 107220 0 0x03a00 ∷ drive 107220 7 0x00000 ∷ drive 107220 0 0x00000 ∷ drive 108420 6 0x00240 ∷ drive 110820 6 0x00640 ∷ drive 112020 6 0x10741 ∷ drive 112110 6 0x10541 ∷ drive 112510 0 0x00200 ∷ drive 112600 6 0x10000 ∷ drive 112600 0 0x02a00 ∷ drive 113000 0 0x06a00 ∷ drive 113000 6 0x100c1 ∷ drive 113055 6 0x180c1 ∷ drive 113055 0 0x02a00 ∷ drive 113055 6 0x10000 ∷ drive 113055 0 0x06a00 ∷ drive 113055 6 0x10122 ∷ drive 113110 6 0x18122 ∷ drive 113110 0 0x02a00 ∷ drive 113110 6 0x10000 ∷ drive 113110 0 0x06a00 ∷ drive 113110 6 0x00004 ∷ drive 113200 6 0x08004 ∷ drive 113200 0 0x02a00 ∷ drive 113200 6 0x00000 ∷ drive 113200 0 0x00a00 ∷ drive 113600 0 0x04a00 ∷ drive 113600 6 0x0010a ∷ drive 113655 6 0x0810a ∷ drive 113655 0 0x00a00 ∷ drive 113655 6 0x00000 ∷ drive 113655 0 0x04a00 ∷ drive 113655 6 0x00100 ∷ drive 113710 6 0x08100 ∷ drive 113710 0 0x00a00 ∷ drive 113710 6 0x00000 ∷ drive 113710 0 0x04a00 ∷ drive 113710 6 0x00100 ∷ drive 113765 6 0x08100 ∷ drive 113765 0 0x00a00 ∷ drive 113765 6 0x00000 ∷ drive 113765 0 0x04a00 ∷ drive 113765 6 0x00100 ∷ drive 113820 6 0x08100 ∷ drive 113820 0 0x00a00 ∷ drive 113820 6 0x00000 ∷ drive 113820 0 0x04a00 ∷ drive 113820 6 0x00001 ∷ drive 113875 6 0x08001 ∷ drive 113875 0 0x00a00 ∷ drive 113875 6 0x00000 ∷ drive 113875 0 0x04a00 ∷ drive 113875 6 0x00100 ∷ drive 113930 6 0x08100 ∷ drive 113930 0 0x00a00 ∷ drive 113930 6 0x00000 ∷ drive 113930 0 0x03a00 ∷ drive 114730 0 0x03a04 ∷ drive 114785 0 0x07a04 ∷ drive 114785 6 0x08000 ∷ drive 114785 0 0x03a00 ∷ drive 114785 6 0x00000 ∷ drive 114785 0 0x00000 ∷ drive 115985 6 0x00240 ∷ drive 118385 6 0x00640 ∷ drive 119585 6 0x10741 ∷ drive 119675 6 0x10541 ∷ drive 120075 0 0x00200 ∷ drive 120165 6 0x10000 ∷ drive 120165 0 0x02a00 ∷ drive 120565 0 0x06a00 ∷ drive 120565 6 0x100c1 ∷ drive 120620 6 0x180c1 ∷ drive 120620 0 0x02a00 ∷ drive 120620 6 0x10000 ∷ drive 120620 0 0x06a00 ∷ drive 120620 6 0x10020 ∷ drive 120675 6 0x18020 ∷ drive 120675 0 0x02a00 ∷ drive 120675 6 0x10000 ∷ drive 120675 0 0x06a00 ∷ drive 120675 6 0x00105 ∷ drive 120765 6 0x08105 ∷ drive 120765 0 0x02a00 ∷ drive 120765 6 0x00000 ∷ drive 120765 0 0x00a00 ∷ drive 121165 0 0x04a00 ∷ drive 121165 6 0x00112 ∷ drive 121220 6 0x08112 ∷ drive 121220 0 0x00a00 ∷ drive 121220 6 0x00000 ∷ drive 121220 0 0x04a00 ∷ drive 121220 6 0x00100 ∷ drive 121275 6 0x08100 ∷ drive 121275 0 0x00a00 ∷ drive 121275 6 0x00000 ∷ drive 121275 0 0x04a00 ∷ drive 121275 6 0x00100 ∷ drive 121330 6 0x08100 ∷ drive 121330 0 0x00a00 ∷ drive 121330 6 0x00000 ∷ drive 121330 0 0x04a00 ∷ drive 121330 6 0x00100 ∷ drive 121385 6 0x08100 ∷ drive 121385 0 0x00a00 ∷ drive 121385 6 0x00000 ∷ drive 121385 0 0x04a00 ∷ drive 121385 6 0x00124 ∷ drive 121440 6 0x08124 ∷ drive 121440 0 0x00a00 ∷ drive 121440 6 0x00000 ∷ drive 121440 0 0x04a00 ∷ drive 121440 6 0x00100 ∷ drive 121495 6 0x08100 ∷ drive 121495 0 0x00a00 ∷ drive 121495 6 0x00000 ∷ drive 121495 0 0x01a00 ∷ drive 122295 0 0x01b28 ∷ drive 122350 0 0x05b28 ∷ drive 122350 6 0x08000 ∷ drive 122350 0 0x01a00 ∷ drive 122350 6 0x00000 ∷ drive 122350 0 0x03b00 ∷ drive 122750 0 0x07b00 ∷ drive 122750 6 0x08000 ∷ drive 122750 0 0x03a00 ∷ drive 122750 6 0x00000 ∷ drive 122750 0 0x00000 ∷ drive 150000 6 0x00240 ∷ drive 152400 6 0x00640 ∷ drive 153600 6 0x10741 ∷ drive 153690 6 0x10541 ∷ drive 154090 0 0x00200 ∷ drive 154180 6 0x10000 ∷ drive 154180 0 0x02a00 ∷ drive 154580 0 0x06a00 ∷ drive 154580 6 0x10080 ∷ drive 154635 6 0x18080 ∷ drive 154635 0 0x02a00 ∷ drive 154635 6 0x10000 ∷ drive 154635 0 0x06a00 ∷ drive 154635 6 0x10020 ∷ drive 154690 6 0x18020 ∷ drive 154690 0 0x02a00 ∷ drive 154690 6 0x10000 ∷ drive 154690 0 0x06a00 ∷ drive 154690 6 0x10002 ∷ drive 154745 6 0x18002 ∷ drive 154745 0 0x02a00 ∷ drive 154745 6 0x10000 ∷ drive 154745 0 0x06a00 ∷ drive 154745 6 0x0000d ∷ drive 154835 6 0x0800d ∷ drive 154835 0 0x02a00 ∷ drive 154835 6 0x00000 ∷ drive 154835 0 0x00000 ∷ drive 1006710 0 0x00201 ∷ drive 1009110 0 0x00601 ∷ drive 1010310 0 0x01781 ∷ drive 1010400 0 0x01581 ∷ drive 1010800 7 0x00200 ∷ drive 1010800 0 0x01781 ∷ drive 1010890 0 0x03a80 ∷ drive 1010890 7 0x00000 ∷ drive 1011290 0 0x07a80 ∷ drive 1011290 7 0x08000 ∷ drive 1011290 0 0x03a20 ∷ drive 1011290 7 0x00000 ∷ drive 1011345 0 0x07a20 ∷ drive 1011345 7 0x08000 ∷ drive 1011345 0 0x03a01 ∷ drive 1011345 7 0x00000 ∷ drive 1011400 0 0x07a01 ∷ drive 1011400 7 0x08000 ∷ drive 1011400 0 0x03a00 ∷ drive 1011400 7 0x00000 ∷ drive 1011400 0 0x00200 ∷ drive 1011800 0 0x04200 ∷ drive 1011800 7 0x00010 ∷ drive 1011855 7 0x08010 ∷ drive 1011855 0 0x00200 ∷ drive 1011855 7 0x00000 ∷ drive 1011855 0 0x04200 ∷ drive 1011855 7 0x00111 ∷ drive 1011910 7 0x08111 ∷ drive 1011910 0 0x00200 ∷ drive 1011910 7 0x00000 ∷ drive 1011910 0 0x04200 ∷ drive 1011910 7 0x00112 ∷ drive 1011965 7 0x08112 ∷ drive 1011965 0 0x00200 ∷ drive 1011965 7 0x00000 ∷ drive 1011965 0 0x04200 ∷ drive 1011965 7 0x00013 ∷ drive 1012020 7 0x08013 ∷ drive 1012020 0 0x00200 ∷ drive 1012020 7 0x00000 ∷ drive 1012020 0 0x04200 ∷ drive 1012020 7 0x00114 ∷ drive 1012075 7 0x08114 ∷ drive 1012075 0 0x00200 ∷ drive 1012075 7 0x00000 ∷ drive 1012075 0 0x04200 ∷ drive 1012075 7 0x00015 ∷ drive 1012130 7 0x08015 ∷ drive 1012130 0 0x00200 ∷ drive 1012130 7 0x00000 ∷ drive 1012130 0 0x04200 ∷ drive 1012130 7 0x00016 ∷ drive 1012185 7 0x08016 ∷ drive 1012185 0 0x00200 ∷ drive 1012185 7 0x00000 ∷ drive 1012185 0 0x04200 ∷ drive 1012185 7 0x00117 ∷ drive 1012240 7 0x08117 ∷ drive 1012240 0 0x00200 ∷ drive 1012240 7 0x00000 ∷ drive 1012240 0 0x04200 ∷ drive 1012240 7 0x00118 ∷ drive 1012295 7 0x08118 ∷ drive 1012295 0 0x00200 ∷ drive 1012295 7 0x00000 ∷ drive 1012295 0 0x04200 ∷ drive 1012295 7 0x00019 ∷ drive 1012350 7 0x08019 ∷ drive 1012350 0 0x00200 ∷ drive 1012350 7 0x00000 ∷ drive 1012350 0 0x04200 ∷ drive 1012350 7 0x0001a ∷ drive 1012405 7 0x0801a ∷ drive 1012405 0 0x00200 ∷ drive 1012405 7 0x00000 ∷ drive 1012405 0 0x04200 ∷ drive 1012405 7 0x0011b ∷ drive 1012460 7 0x0811b ∷ drive 1012460 0 0x00200 ∷ drive 1012460 7 0x00000 ∷ drive 1012460 0 0x04200 ∷ drive 1012460 7 0x0001c ∷ drive 1012515 7 0x0801c ∷ drive 1012515 0 0x00200 ∷ drive 1012515 7 0x00000 ∷ drive 1012515 0 0x04200 ∷ drive 1012515 7 0x0011d ∷ drive 1012570 7 0x0811d ∷ drive 1012570 0 0x00200 ∷ drive 1012570 7 0x00000 ∷ drive 1012570 0 0x04200 ∷ drive 1012570 7 0x0011e ∷ drive 1012625 7 0x0811e ∷ drive 1012625 0 0x00200 ∷ drive 1012625 7 0x00000 ∷ drive 1012625 0 0x04200 ∷ drive 1012625 7 0x0001f ∷ drive 1012680 7 0x0801f ∷ drive 1012680 0 0x00200 ∷ drive 1012680 7 0x00000 ∷ drive 1012680 0 0x01a00 ∷ drive 1013480 0 0x01b00 ∷ drive 1013535 0 0x05b00 ∷ drive 1013535 7 0x08000 ∷ drive 1013535 0 0x01a00 ∷ drive 1013535 7 0x00000 ∷ drive 1013535 0 0x03b00 ∷ drive 1013935 0 0x07b00 ∷ drive 1013935 7 0x08000 ∷ drive 1013935 0 0x03a00 ∷ drive 1013935 7 0x00000 ∷ drive 1013935 0 0x00000 ∷ drive 1113930 0 0x00201 ∷ drive 1116330 0 0x00601 ∷ drive 1117530 0 0x01741 ∷ drive 1117620 0 0x01541 ∷ drive 1118020 6 0x00200 ∷ drive 1118020 0 0x01741 ∷ drive 1118110 0 0x03b81 ∷ drive 1118110 6 0x00000 ∷ drive 1118510 0 0x07b81 ∷ drive 1118510 6 0x08000 ∷ drive 1118510 0 0x03a20 ∷ drive 1118510 6 0x00000 ∷ drive 1118565 0 0x07a20 ∷ drive 1118565 6 0x08000 ∷ drive 1118565 0 0x03a04 ∷ drive 1118565 6 0x00000 ∷ drive 1118620 0 0x07a04 ∷ drive 1118620 6 0x08000 ∷ drive 1118620 0 0x03a00 ∷ drive 1118620 6 0x00000 ∷ drive 1118620 0 0x00200 ∷ drive 1119020 0 0x04200 ∷ drive 1119020 6 0x00040 ∷ drive 1119075 6 0x08040 ∷ drive 1119075 0 0x00200 ∷ drive 1119075 6 0x00000 ∷ drive 1119075 0 0x04200 ∷ drive 1119075 6 0x00141 ∷ drive 1119130 6 0x08141 ∷ drive 1119130 0 0x00200 ∷ drive 1119130 6 0x00000 ∷ drive 1119130 0 0x04200 ∷ drive 1119130 6 0x00142 ∷ drive 1119185 6 0x08142 ∷ drive 1119185 0 0x00200 ∷ drive 1119185 6 0x00000 ∷ drive 1119185 0 0x04200 ∷ drive 1119185 6 0x00043 ∷ drive 1119240 6 0x08043 ∷ drive 1119240 0 0x00200 ∷ drive 1119240 6 0x00000 ∷ drive 1119240 0 0x04200 ∷ drive 1119240 6 0x00144 ∷ drive 1119295 6 0x08144 ∷ drive 1119295 0 0x00200 ∷ drive 1119295 6 0x00000 ∷ drive 1119295 0 0x04200 ∷ drive 1119295 6 0x00045 ∷ drive 1119350 6 0x08045 ∷ drive 1119350 0 0x00200 ∷ drive 1119350 6 0x00000 ∷ drive 1119350 0 0x04200 ∷ drive 1119350 6 0x00046 ∷ drive 1119405 6 0x08046 ∷ drive 1119405 0 0x00200 ∷ drive 1119405 6 0x00000 ∷ drive 1119405 0 0x04200 ∷ drive 1119405 6 0x00147 ∷ drive 1119460 6 0x08147 ∷ drive 1119460 0 0x00200 ∷ drive 1119460 6 0x00000 ∷ drive 1119460 0 0x04200 ∷ drive 1119460 6 0x00148 ∷ drive 1119515 6 0x08148 ∷ drive 1119515 0 0x00200 ∷ drive 1119515 6 0x00000 ∷ drive 1119515 0 0x04200 ∷ drive 1119515 6 0x00049 ∷ drive 1119570 6 0x08049 ∷ drive 1119570 0 0x00200 ∷ drive 1119570 6 0x00000 ∷ drive 1119570 0 0x04200 ∷ drive 1119570 6 0x0004a ∷ drive 1119625 6 0x0804a ∷ drive 1119625 0 0x00200 ∷ drive 1119625 6 0x00000 ∷ drive 1119625 0 0x04200 ∷ drive 1119625 6 0x0014b ∷ drive 1119680 6 0x0814b ∷ drive 1119680 0 0x00200 ∷ drive 1119680 6 0x00000 ∷ drive 1119680 0 0x04200 ∷ drive 1119680 6 0x0004c ∷ drive 1119735 6 0x0804c ∷ drive 1119735 0 0x00200 ∷ drive 1119735 6 0x00000 ∷ drive 1119735 0 0x04200 ∷ drive 1119735 6 0x0014d ∷ drive 1119790 6 0x0814d ∷ drive 1119790 0 0x00200 ∷ drive 1119790 6 0x00000 ∷ drive 1119790 0 0x04200 ∷ drive 1119790 6 0x0014e ∷ drive 1119845 6 0x0814e ∷ drive 1119845 0 0x00200 ∷ drive 1119845 6 0x00000 ∷ drive 1119845 0 0x04200 ∷ drive 1119845 6 0x0004f ∷ drive 1119900 6 0x0804f ∷ drive 1119900 0 0x00200 ∷ drive 1119900 6 0x00000 ∷ drive 1119900 0 0x01a00 ∷ drive 1120700 0 0x01b00 ∷ drive 1120755 0 0x05b00 ∷ drive 1120755 6 0x08000 ∷ drive 1120755 0 0x01a00 ∷ drive 1120755 6 0x00000 ∷ drive 1120755 0 0x03b00 ∷ drive 1121155 0 0x07b00 ∷ drive 1121155 6 0x08000 ∷ drive 1121155 0 0x03a00 ∷ drive 1121155 6 0x00000 ∷ drive 1121155 0 0x00000 ∷ drive 2013935 0 0x00201 ∷ drive 2016335 0 0x00601 ∷ drive 2017535 0 0x01741 ∷ drive 2017625 0 0x01541 ∷ drive 2018025 6 0x00200 ∷ drive 2018025 0 0x01741 ∷ drive 2018115 0 0x03a80 ∷ drive 2018115 6 0x00000 ∷ drive 2018515 0 0x07a80 ∷ drive 2018515 6 0x08000 ∷ drive 2018515 0 0x03a20 ∷ drive 2018515 6 0x00000 ∷ drive 2018570 0 0x07a20 ∷ drive 2018570 6 0x08000 ∷ drive 2018570 0 0x03b09 ∷ drive 2018570 6 0x00000 ∷ drive 2018625 0 0x07b09 ∷ drive 2018625 6 0x08000 ∷ drive 2018625 0 0x03a00 ∷ drive 2018625 6 0x00000 ∷ drive 2018625 0 0x00200 ∷ drive 2019025 0 0x04200 ∷ drive 2019025 6 0x00150 ∷ drive 2019080 6 0x08150 ∷ drive 2019080 0 0x00200 ∷ drive 2019080 6 0x00000 ∷ drive 2019080 0 0x04200 ∷ drive 2019080 6 0x00051 ∷ drive 2019135 6 0x08051 ∷ drive 2019135 0 0x00200 ∷ drive 2019135 6 0x00000 ∷ drive 2019135 0 0x04200 ∷ drive 2019135 6 0x00052 ∷ drive 2019190 6 0x08052 ∷ drive 2019190 0 0x00200 ∷ drive 2019190 6 0x00000 ∷ drive 2019190 0 0x04200 ∷ drive 2019190 6 0x00153 ∷ drive 2019245 6 0x08153 ∷ drive 2019245 0 0x00200 ∷ drive 2019245 6 0x00000 ∷ drive 2019245 0 0x04200 ∷ drive 2019245 6 0x00054 ∷ drive 2019300 6 0x08054 ∷ drive 2019300 0 0x00200 ∷ drive 2019300 6 0x00000 ∷ drive 2019300 0 0x04200 ∷ drive 2019300 6 0x00155 ∷ drive 2019355 6 0x08155 ∷ drive 2019355 0 0x00200 ∷ drive 2019355 6 0x00000 ∷ drive 2019355 0 0x04200 ∷ drive 2019355 6 0x00156 ∷ drive 2019410 6 0x08156 ∷ drive 2019410 0 0x00200 ∷ drive 2019410 6 0x00000 ∷ drive 2019410 0 0x04200 ∷ drive 2019410 6 0x00057 ∷ drive 2019465 6 0x08057 ∷ drive 2019465 0 0x00200 ∷ drive 2019465 6 0x00000 ∷ drive 2019465 0 0x04200 ∷ drive 2019465 6 0x00058 ∷ drive 2019520 6 0x08058 ∷ drive 2019520 0 0x00200 ∷ drive 2019520 6 0x00000 ∷ drive 2019520 0 0x04200 ∷ drive 2019520 6 0x00159 ∷ drive 2019575 6 0x08159 ∷ drive 2019575 0 0x00200 ∷ drive 2019575 6 0x00000 ∷ drive 2019575 0 0x04200 ∷ drive 2019575 6 0x0015a ∷ drive 2019630 6 0x0815a ∷ drive 2019630 0 0x00200 ∷ drive 2019630 6 0x00000 ∷ drive 2019630 0 0x04200 ∷ drive 2019630 6 0x0005b ∷ drive 2019685 6 0x0805b ∷ drive 2019685 0 0x00200 ∷ drive 2019685 6 0x00000 ∷ drive 2019685 0 0x04200 ∷ drive 2019685 6 0x0015c ∷ drive 2019740 6 0x0815c ∷ drive 2019740 0 0x00200 ∷ drive 2019740 6 0x00000 ∷ drive 2019740 0 0x04200 ∷ drive 2019740 6 0x0005d ∷ drive 2019795 6 0x0805d ∷ drive 2019795 0 0x00200 ∷ drive 2019795 6 0x00000 ∷ drive 2019795 0 0x04200 ∷ drive 2019795 6 0x0005e ∷ drive 2019850 6 0x0805e ∷ drive 2019850 0 0x00200 ∷ drive 2019850 6 0x00000 ∷ drive 2019850 0 0x04200 ∷ drive 2019850 6 0x0015f ∷ drive 2019905 6 0x0815f ∷ drive 2019905 0 0x00200 ∷ drive 2019905 6 0x00000 ∷ drive 2019905 0 0x01a00 ∷ drive 2020705 0 0x01b00 ∷ drive 2020760 0 0x05b00 ∷ drive 2020760 6 0x08000 ∷ drive 2020760 0 0x01a00 ∷ drive 2020760 6 0x00000 ∷ drive 2020760 0 0x03b00 ∷ drive 2021160 0 0x07b00 ∷ drive 2021160 6 0x08000 ∷ drive 2021160 0 0x03a00 ∷ drive 2021160 6 0x00000 ∷ drive 2021160 0 0x00000 ∷ drive 3000000 6 0x00240 ∷ drive 3002400 6 0x00640 ∷ drive 3003600 6 0x10741 ∷ drive 3003690 6 0x10541 ∷ drive 3004090 0 0x00200 ∷ drive 3004180 6 0x10000 ∷ drive 3004180 0 0x02a00 ∷ drive 3004580 0 0x06a00 ∷ drive 3004580 6 0x10181 ∷ drive 3004635 6 0x18181 ∷ drive 3004635 0 0x02a00 ∷ drive 3004635 6 0x10000 ∷ drive 3004635 0 0x06a00 ∷ drive 3004635 6 0x0010c ∷ drive 3004725 6 0x0810c ∷ drive 3004725 0 0x02a00 ∷ drive 3004725 6 0x00000 ∷ drive 3004725 0 0x00000 ∷ []

abbrev full_run_events : List Event
full_run_events = events.Accept (command 1) ∷ events.Accept (command 2) ∷ events.Accept (command 3) ∷ events.Refuse (command 4) ∷ events.End (command 4) 40 ∷ events.Accept (command 7) ∷ events.Run (command 7) ∷ events.End (command 7) 0 ∷ events.Accept (command 5) ∷ events.Refuse (command 6) ∷ events.End (command 6) 40 ∷ events.Aborted 6 0 0 (aborts.Tag 2) ∷ events.Run (command 1) ∷ events.End (command 1) 0 ∷ events.Run (command 5) ∷ events.End (command 5) 0 ∷ events.Run (command 3) ∷ events.End (command 3) 0 ∷ events.Aborted 6 0 1 aborts.Device ∷ []

full_run_told : shown full_run (story full_run (reverse full_run_rows)) (reverse full_run_events) ≡ record { history = reverse full_run_events; ends = Some (ended_good ([])) ∷ Some (ended_aborted) ∷ Some (ended_good ([])) ∷ Some (ended_full) ∷ Some (ended_good ([])) ∷ Some (ended_full) ∷ Some (ended_good (112 ∷ 0 ∷ 0 ∷ 0 ∷ [])) ∷ []; carried = true }
unfolding need_of sent_of ones union_below line_of form_out form_in
full_run_told = refl

-- ---- heads_run

abbrev heads_run : ScenarioValue
heads_run = record {
  version = 1;
  hosts = record { dev = 7; latency = 0; most = 6; retries = 2; period = 0; offset = 0; lag = 0; offers = true } ∷ [];
  targets = record { dev = 0; latency = 0; retries = 2; disc = policies.Command; pick = picks.First; seek = 1000000; period = 0; offset = 0; begins = false } ∷ [];
  units = record { target = 0; unit = 0; blocks = 1; size = 16; depth = 6 } ∷ [];
  fills = [];
  tapes = [];
  loads = [];
  commands = record { host = 7; target = 0; unit = 0; at = 0; tag = tags.Simple 0; cdb = (0 ∷ 0 ∷ 0 ∷ 0 ∷ 0 ∷ 0 ∷ []); payload = payloads.Nothing } ∷ record { host = 7; target = 0; unit = 0; at = 0; tag = tags.Simple 1; cdb = (0 ∷ 0 ∷ 0 ∷ 0 ∷ 0 ∷ 0 ∷ []); payload = payloads.Nothing } ∷ record { host = 7; target = 0; unit = 0; at = 0; tag = tags.Ordered 2; cdb = (0 ∷ 0 ∷ 0 ∷ 0 ∷ 0 ∷ 0 ∷ []); payload = payloads.Nothing } ∷ record { host = 7; target = 0; unit = 0; at = 0; tag = tags.Simple 3; cdb = (0 ∷ 0 ∷ 0 ∷ 0 ∷ 0 ∷ 0 ∷ []); payload = payloads.Nothing } ∷ record { host = 7; target = 0; unit = 0; at = 0; tag = tags.Head 4; cdb = (0 ∷ 0 ∷ 0 ∷ 0 ∷ 0 ∷ 0 ∷ []); payload = payloads.Nothing } ∷ record { host = 7; target = 0; unit = 0; at = 0; tag = tags.Head 5; cdb = (0 ∷ 0 ∷ 0 ∷ 0 ∷ 0 ∷ 0 ∷ []); payload = payloads.Nothing } ∷ [];
  aborts = [];
  resets = [];
  faults = [];
}

abbrev pub heads_run_rows : List Row
heads_run_rows = drive 1200 7 0x00280 ∷ drive 3600 7 0x00680 ∷ drive 4800 7 0x10781 ∷ drive 4890 7 0x10581 ∷ drive 5290 0 0x00200 ∷ drive 5380 7 0x10000 ∷ drive 5380 0 0x02a00 ∷ drive 5780 0 0x06a00 ∷ drive 5780 7 0x101c0 ∷ drive 5835 7 0x181c0 ∷ drive 5835 0 0x02a00 ∷ drive 5835 7 0x10000 ∷ drive 5835 0 0x06a00 ∷ drive 5835 7 0x10020 ∷ drive 5890 7 0x18020 ∷ drive 5890 0 0x02a00 ∷ drive 5890 7 0x10000 ∷ drive 5890 0 0x06a00 ∷ drive 5890 7 0x00100 ∷ drive 5980 7 0x08100 ∷ drive 5980 0 0x02a00 ∷ drive 5980 7 0x00000 ∷ drive 5980 0 0x00a00 ∷ drive 6380 0 0x04a00 ∷ drive 6380 7 0x00100 ∷ drive 6435 7 0x08100 ∷ drive 6435 0 0x00a00 ∷ drive 6435 7 0x00000 ∷ drive 6435 0 0x04a00 ∷ drive 6435 7 0x00100 ∷ drive 6490 7 0x08100 ∷ drive 6490 0 0x00a00 ∷ drive 6490 7 0x00000 ∷ drive 6490 0 0x04a00 ∷ drive 6490 7 0x00100 ∷ drive 6545 7 0x08100 ∷ drive 6545 0 0x00a00 ∷ drive 6545 7 0x00000 ∷ drive 6545 0 0x04a00 ∷ drive 6545 7 0x00100 ∷ drive 6600 7 0x08100 ∷ drive 6600 0 0x00a00 ∷ drive 6600 7 0x00000 ∷ drive 6600 0 0x04a00 ∷ drive 6600 7 0x00100 ∷ drive 6655 7 0x08100 ∷ drive 6655 0 0x00a00 ∷ drive 6655 7 0x00000 ∷ drive 6655 0 0x04a00 ∷ drive 6655 7 0x00100 ∷ drive 6710 7 0x08100 ∷ drive 6710 0 0x00a00 ∷ drive 6710 7 0x00000 ∷ drive 6710 0 0x03a00 ∷ drive 7510 0 0x03a04 ∷ drive 7565 0 0x07a04 ∷ drive 7565 7 0x08000 ∷ drive 7565 0 0x03a00 ∷ drive 7565 7 0x00000 ∷ drive 7565 0 0x00000 ∷ drive 8765 7 0x00280 ∷ drive 11165 7 0x00680 ∷ drive 12365 7 0x10781 ∷ drive 12455 7 0x10581 ∷ drive 12855 0 0x00200 ∷ drive 12945 7 0x10000 ∷ drive 12945 0 0x02a00 ∷ drive 13345 0 0x06a00 ∷ drive 13345 7 0x101c0 ∷ drive 13400 7 0x181c0 ∷ drive 13400 0 0x02a00 ∷ drive 13400 7 0x10000 ∷ drive 13400 0 0x06a00 ∷ drive 13400 7 0x10020 ∷ drive 13455 7 0x18020 ∷ drive 13455 0 0x02a00 ∷ drive 13455 7 0x10000 ∷ drive 13455 0 0x06a00 ∷ drive 13455 7 0x00001 ∷ drive 13545 7 0x08001 ∷ drive 13545 0 0x02a00 ∷ drive 13545 7 0x00000 ∷ drive 13545 0 0x00a00 ∷ drive 13945 0 0x04a00 ∷ drive 13945 7 0x00100 ∷ drive 14000 7 0x08100 ∷ drive 14000 0 0x00a00 ∷ drive 14000 7 0x00000 ∷ drive 14000 0 0x04a00 ∷ drive 14000 7 0x00100 ∷ drive 14055 7 0x08100 ∷ drive 14055 0 0x00a00 ∷ drive 14055 7 0x00000 ∷ drive 14055 0 0x04a00 ∷ drive 14055 7 0x00100 ∷ drive 14110 7 0x08100 ∷ drive 14110 0 0x00a00 ∷ drive 14110 7 0x00000 ∷ drive 14110 0 0x04a00 ∷ drive 14110 7 0x00100 ∷ drive 14165 7 0x08100 ∷ drive 14165 0 0x00a00 ∷ drive 14165 7 0x00000 ∷ drive 14165 0 0x04a00 ∷ drive 14165 7 0x00100 ∷ drive 14220 7 0x08100 ∷ drive 14220 0 0x00a00 ∷ drive 14220 7 0x00000 ∷ drive 14220 0 0x04a00 ∷ drive 14220 7 0x00100 ∷ drive 14275 7 0x08100 ∷ drive 14275 0 0x00a00 ∷ drive 14275 7 0x00000 ∷ drive 14275 0 0x03a00 ∷ drive 15075 0 0x03a04 ∷ drive 15130 0 0x07a04 ∷ drive 15130 7 0x08000 ∷ drive 15130 0 0x03a00 ∷ drive 15130 7 0x00000 ∷ drive 15130 0 0x00000 ∷ drive 16330 7 0x00280 ∷ drive 18730 7 0x00680 ∷ drive 19930 7 0x10781 ∷ drive 20020 7 0x10581 ∷ drive 20420 0 0x00200 ∷ drive 20510 7 0x10000 ∷ drive 20510 0 0x02a00 ∷ drive 20910 0 0x06a00 ∷ drive 20910 7 0x101c0 ∷ drive 20965 7 0x181c0 ∷ drive 20965 0 0x02a00 ∷ drive 20965 7 0x10000 ∷ drive 20965 0 0x06a00 ∷ drive 20965 7 0x10122 ∷ drive 21020 7 0x18122 ∷ drive 21020 0 0x02a00 ∷ drive 21020 7 0x10000 ∷ drive 21020 0 0x06a00 ∷ drive 21020 7 0x00002 ∷ drive 21110 7 0x08002 ∷ drive 21110 0 0x02a00 ∷ drive 21110 7 0x00000 ∷ drive 21110 0 0x00a00 ∷ drive 21510 0 0x04a00 ∷ drive 21510 7 0x00100 ∷ drive 21565 7 0x08100 ∷ drive 21565 0 0x00a00 ∷ drive 21565 7 0x00000 ∷ drive 21565 0 0x04a00 ∷ drive 21565 7 0x00100 ∷ drive 21620 7 0x08100 ∷ drive 21620 0 0x00a00 ∷ drive 21620 7 0x00000 ∷ drive 21620 0 0x04a00 ∷ drive 21620 7 0x00100 ∷ drive 21675 7 0x08100 ∷ drive 21675 0 0x00a00 ∷ drive 21675 7 0x00000 ∷ drive 21675 0 0x04a00 ∷ drive 21675 7 0x00100 ∷ drive 21730 7 0x08100 ∷ drive 21730 0 0x00a00 ∷ drive 21730 7 0x00000 ∷ drive 21730 0 0x04a00 ∷ drive 21730 7 0x00100 ∷ drive 21785 7 0x08100 ∷ drive 21785 0 0x00a00 ∷ drive 21785 7 0x00000 ∷ drive 21785 0 0x04a00 ∷ drive 21785 7 0x00100 ∷ drive 21840 7 0x08100 ∷ drive 21840 0 0x00a00 ∷ drive 21840 7 0x00000 ∷ drive 21840 0 0x03a00 ∷ drive 22640 0 0x03a04 ∷ drive 22695 0 0x07a04 ∷ drive 22695 7 0x08000 ∷ drive 22695 0 0x03a00 ∷ drive 22695 7 0x00000 ∷ drive 22695 0 0x00000 ∷ drive 23895 7 0x00280 ∷ drive 26295 7 0x00680 ∷ drive 27495 7 0x10781 ∷ drive 27585 7 0x10581 ∷ drive 27985 0 0x00200 ∷ drive 28075 7 0x10000 ∷ drive 28075 0 0x02a00 ∷ drive 28475 0 0x06a00 ∷ drive 28475 7 0x101c0 ∷ drive 28530 7 0x181c0 ∷ drive 28530 0 0x02a00 ∷ drive 28530 7 0x10000 ∷ drive 28530 0 0x06a00 ∷ drive 28530 7 0x10020 ∷ drive 28585 7 0x18020 ∷ drive 28585 0 0x02a00 ∷ drive 28585 7 0x10000 ∷ drive 28585 0 0x06a00 ∷ drive 28585 7 0x00103 ∷ drive 28675 7 0x08103 ∷ drive 28675 0 0x02a00 ∷ drive 28675 7 0x00000 ∷ drive 28675 0 0x00a00 ∷ drive 29075 0 0x04a00 ∷ drive 29075 7 0x00100 ∷ drive 29130 7 0x08100 ∷ drive 29130 0 0x00a00 ∷ drive 29130 7 0x00000 ∷ drive 29130 0 0x04a00 ∷ drive 29130 7 0x00100 ∷ drive 29185 7 0x08100 ∷ drive 29185 0 0x00a00 ∷ drive 29185 7 0x00000 ∷ drive 29185 0 0x04a00 ∷ drive 29185 7 0x00100 ∷ drive 29240 7 0x08100 ∷ drive 29240 0 0x00a00 ∷ drive 29240 7 0x00000 ∷ drive 29240 0 0x04a00 ∷ drive 29240 7 0x00100 ∷ drive 29295 7 0x08100 ∷ drive 29295 0 0x00a00 ∷ drive 29295 7 0x00000 ∷ drive 29295 0 0x04a00 ∷ drive 29295 7 0x00100 ∷ drive 29350 7 0x08100 ∷ drive 29350 0 0x00a00 ∷ drive 29350 7 0x00000 ∷ drive 29350 0 0x04a00 ∷ drive 29350 7 0x00100 ∷ drive 29405 7 0x08100 ∷ drive 29405 0 0x00a00 ∷ drive 29405 7 0x00000 ∷ drive 29405 0 0x03a00 ∷ drive 30205 0 0x03a04 ∷ drive 30260 0 0x07a04 ∷ drive 30260 7 0x08000 ∷ drive 30260 0 0x03a00 ∷ drive 30260 7 0x00000 ∷ drive 30260 0 0x00000 ∷ drive 31460 7 0x00280 ∷ drive 33860 7 0x00680 ∷ drive 35060 7 0x10781 ∷ drive 35150 7 0x10581 ∷ drive 35550 0 0x00200 ∷ drive 35640 7 0x10000 ∷ drive 35640 0 0x02a00 ∷ drive 36040 0 0x06a00 ∷ drive 36040 7 0x101c0 ∷ drive 36095 7 0x181c0 ∷ drive 36095 0 0x02a00 ∷ drive 36095 7 0x10000 ∷ drive 36095 0 0x06a00 ∷ drive 36095 7 0x10121 ∷ drive 36150 7 0x18121 ∷ drive 36150 0 0x02a00 ∷ drive 36150 7 0x10000 ∷ drive 36150 0 0x06a00 ∷ drive 36150 7 0x00004 ∷ drive 36240 7 0x08004 ∷ drive 36240 0 0x02a00 ∷ drive 36240 7 0x00000 ∷ drive 36240 0 0x00a00 ∷ drive 36640 0 0x04a00 ∷ drive 36640 7 0x00100 ∷ drive 36695 7 0x08100 ∷ drive 36695 0 0x00a00 ∷ drive 36695 7 0x00000 ∷ drive 36695 0 0x04a00 ∷ drive 36695 7 0x00100 ∷ drive 36750 7 0x08100 ∷ drive 36750 0 0x00a00 ∷ drive 36750 7 0x00000 ∷ drive 36750 0 0x04a00 ∷ drive 36750 7 0x00100 ∷ drive 36805 7 0x08100 ∷ drive 36805 0 0x00a00 ∷ drive 36805 7 0x00000 ∷ drive 36805 0 0x04a00 ∷ drive 36805 7 0x00100 ∷ drive 36860 7 0x08100 ∷ drive 36860 0 0x00a00 ∷ drive 36860 7 0x00000 ∷ drive 36860 0 0x04a00 ∷ drive 36860 7 0x00100 ∷ drive 36915 7 0x08100 ∷ drive 36915 0 0x00a00 ∷ drive 36915 7 0x00000 ∷ drive 36915 0 0x04a00 ∷ drive 36915 7 0x00100 ∷ drive 36970 7 0x08100 ∷ drive 36970 0 0x00a00 ∷ drive 36970 7 0x00000 ∷ drive 36970 0 0x03a00 ∷ drive 37770 0 0x03a04 ∷ drive 37825 0 0x07a04 ∷ drive 37825 7 0x08000 ∷ drive 37825 0 0x03a00 ∷ drive 37825 7 0x00000 ∷ drive 37825 0 0x00000 ∷ drive 39025 7 0x00280 ∷ drive 41425 7 0x00680 ∷ drive 42625 7 0x10781 ∷ drive 42715 7 0x10581 ∷ drive 43115 0 0x00200 ∷ drive 43205 7 0x10000 ∷ drive 43205 0 0x02a00 ∷ drive 43605 0 0x06a00 ∷ drive 43605 7 0x101c0 ∷ drive 43660 7 0x181c0 ∷ drive 43660 0 0x02a00 ∷ drive 43660 7 0x10000 ∷ drive 43660 0 0x06a00 ∷ drive 43660 7 0x10121 ∷ drive 43715 7 0x18121 ∷ drive 43715 0 0x02a00 ∷ drive 43715 7 0x10000 ∷ drive 43715 0 0x06a00 ∷ drive 43715 7 0x00105 ∷ drive 43805 7 0x08105 ∷ drive 43805 0 0x02a00 ∷ drive 43805 7 0x00000 ∷ drive 43805 0 0x00a00 ∷ drive 44205 0 0x04a00 ∷ drive 44205 7 0x00100 ∷ drive 44260 7 0x08100 ∷ drive 44260 0 0x00a00 ∷ drive 44260 7 0x00000 ∷ drive 44260 0 0x04a00 ∷ drive 44260 7 0x00100 ∷ drive 44315 7 0x08100 ∷ drive 44315 0 0x00a00 ∷ drive 44315 7 0x00000 ∷ drive 44315 0 0x04a00 ∷ drive 44315 7 0x00100 ∷ drive 44370 7 0x08100 ∷ drive 44370 0 0x00a00 ∷ drive 44370 7 0x00000 ∷ drive 44370 0 0x04a00 ∷ drive 44370 7 0x00100 ∷ drive 44425 7 0x08100 ∷ drive 44425 0 0x00a00 ∷ drive 44425 7 0x00000 ∷ drive 44425 0 0x04a00 ∷ drive 44425 7 0x00100 ∷ drive 44480 7 0x08100 ∷ drive 44480 0 0x00a00 ∷ drive 44480 7 0x00000 ∷ drive 44480 0 0x04a00 ∷ drive 44480 7 0x00100 ∷ drive 44535 7 0x08100 ∷ drive 44535 0 0x00a00 ∷ drive 44535 7 0x00000 ∷ drive 44535 0 0x03a00 ∷ drive 45335 0 0x03a04 ∷ drive 45390 0 0x07a04 ∷ drive 45390 7 0x08000 ∷ drive 45390 0 0x03a00 ∷ drive 45390 7 0x00000 ∷ drive 45390 0 0x00000 ∷ drive 1006710 0 0x00201 ∷ drive 1009110 0 0x00601 ∷ drive 1010310 0 0x01781 ∷ drive 1010400 0 0x01581 ∷ drive 1010800 7 0x00200 ∷ drive 1010800 0 0x01781 ∷ drive 1010890 0 0x03a80 ∷ drive 1010890 7 0x00000 ∷ drive 1011290 0 0x07a80 ∷ drive 1011290 7 0x08000 ∷ drive 1011290 0 0x03a20 ∷ drive 1011290 7 0x00000 ∷ drive 1011345 0 0x07a20 ∷ drive 1011345 7 0x08000 ∷ drive 1011345 0 0x03b00 ∷ drive 1011345 7 0x00000 ∷ drive 1011400 0 0x07b00 ∷ drive 1011400 7 0x08000 ∷ drive 1011400 0 0x03a00 ∷ drive 1011400 7 0x00000 ∷ drive 1011400 0 0x01b00 ∷ drive 1011800 0 0x05b00 ∷ drive 1011800 7 0x08000 ∷ drive 1011800 0 0x01a00 ∷ drive 1011800 7 0x00000 ∷ drive 1011800 0 0x03b00 ∷ drive 1012200 0 0x07b00 ∷ drive 1012200 7 0x08000 ∷ drive 1012200 0 0x03a00 ∷ drive 1012200 7 0x00000 ∷ drive 1012200 0 0x00000 ∷ drive 2012200 0 0x00201 ∷ drive 2014600 0 0x00601 ∷ drive 2015800 0 0x01781 ∷ drive 2015890 0 0x01581 ∷ drive 2016290 7 0x00200 ∷ drive 2016290 0 0x01781 ∷ drive 2016380 0 0x03a80 ∷ drive 2016380 7 0x00000 ∷ drive 2016780 0 0x07a80 ∷ drive 2016780 7 0x08000 ∷ drive 2016780 0 0x03a20 ∷ drive 2016780 7 0x00000 ∷ drive 2016835 0 0x07a20 ∷ drive 2016835 7 0x08000 ∷ drive 2016835 0 0x03b05 ∷ drive 2016835 7 0x00000 ∷ drive 2016890 0 0x07b05 ∷ drive 2016890 7 0x08000 ∷ drive 2016890 0 0x03a00 ∷ drive 2016890 7 0x00000 ∷ drive 2016890 0 0x01b00 ∷ drive 2017290 0 0x05b00 ∷ drive 2017290 7 0x08000 ∷ drive 2017290 0 0x01a00 ∷ drive 2017290 7 0x00000 ∷ drive 2017290 0 0x03b00 ∷ drive 2017690 0 0x07b00 ∷ drive 2017690 7 0x08000 ∷ drive 2017690 0 0x03a00 ∷ drive 2017690 7 0x00000 ∷ drive 2017690 0 0x00000 ∷ drive 3017690 0 0x00201 ∷ drive 3020090 0 0x00601 ∷ drive 3021290 0 0x01781 ∷ drive 3021380 0 0x01581 ∷ drive 3021780 7 0x00200 ∷ drive 3021780 0 0x01781 ∷ drive 3021870 0 0x03a80 ∷ drive 3021870 7 0x00000 ∷ drive 3022270 0 0x07a80 ∷ drive 3022270 7 0x08000 ∷ drive 3022270 0 0x03a20 ∷ drive 3022270 7 0x00000 ∷ drive 3022325 0 0x07a20 ∷ drive 3022325 7 0x08000 ∷ drive 3022325 0 0x03a04 ∷ drive 3022325 7 0x00000 ∷ drive 3022380 0 0x07a04 ∷ drive 3022380 7 0x08000 ∷ drive 3022380 0 0x03a00 ∷ drive 3022380 7 0x00000 ∷ drive 3022380 0 0x01b00 ∷ drive 3022780 0 0x05b00 ∷ drive 3022780 7 0x08000 ∷ drive 3022780 0 0x01a00 ∷ drive 3022780 7 0x00000 ∷ drive 3022780 0 0x03b00 ∷ drive 3023180 0 0x07b00 ∷ drive 3023180 7 0x08000 ∷ drive 3023180 0 0x03a00 ∷ drive 3023180 7 0x00000 ∷ drive 3023180 0 0x00000 ∷ drive 4023180 0 0x00201 ∷ drive 4025580 0 0x00601 ∷ drive 4026780 0 0x01781 ∷ drive 4026870 0 0x01581 ∷ drive 4027270 7 0x00200 ∷ drive 4027270 0 0x01781 ∷ drive 4027360 0 0x03a80 ∷ drive 4027360 7 0x00000 ∷ drive 4027760 0 0x07a80 ∷ drive 4027760 7 0x08000 ∷ drive 4027760 0 0x03a20 ∷ drive 4027760 7 0x00000 ∷ drive 4027815 0 0x07a20 ∷ drive 4027815 7 0x08000 ∷ drive 4027815 0 0x03a01 ∷ drive 4027815 7 0x00000 ∷ drive 4027870 0 0x07a01 ∷ drive 4027870 7 0x08000 ∷ drive 4027870 0 0x03a00 ∷ drive 4027870 7 0x00000 ∷ drive 4027870 0 0x01b00 ∷ drive 4028270 0 0x05b00 ∷ drive 4028270 7 0x08000 ∷ drive 4028270 0 0x01a00 ∷ drive 4028270 7 0x00000 ∷ drive 4028270 0 0x03b00 ∷ drive 4028670 0 0x07b00 ∷ drive 4028670 7 0x08000 ∷ drive 4028670 0 0x03a00 ∷ drive 4028670 7 0x00000 ∷ drive 4028670 0 0x00000 ∷ drive 5028670 0 0x00201 ∷ drive 5031070 0 0x00601 ∷ drive 5032270 0 0x01781 ∷ drive 5032360 0 0x01581 ∷ drive 5032760 7 0x00200 ∷ drive 5032760 0 0x01781 ∷ drive 5032850 0 0x03a80 ∷ drive 5032850 7 0x00000 ∷ drive 5033250 0 0x07a80 ∷ drive 5033250 7 0x08000 ∷ drive 5033250 0 0x03a20 ∷ drive 5033250 7 0x00000 ∷ drive 5033305 0 0x07a20 ∷ drive 5033305 7 0x08000 ∷ drive 5033305 0 0x03a02 ∷ drive 5033305 7 0x00000 ∷ drive 5033360 0 0x07a02 ∷ drive 5033360 7 0x08000 ∷ drive 5033360 0 0x03a00 ∷ drive 5033360 7 0x00000 ∷ drive 5033360 0 0x01b00 ∷ drive 5033760 0 0x05b00 ∷ drive 5033760 7 0x08000 ∷ drive 5033760 0 0x01a00 ∷ drive 5033760 7 0x00000 ∷ drive 5033760 0 0x03b00 ∷ drive 5034160 0 0x07b00 ∷ drive 5034160 7 0x08000 ∷ drive 5034160 0 0x03a00 ∷ drive 5034160 7 0x00000 ∷ drive 5034160 0 0x00000 ∷ drive 6034160 0 0x00201 ∷ drive 6036560 0 0x00601 ∷ drive 6037760 0 0x01781 ∷ drive 6037850 0 0x01581 ∷ drive 6038250 7 0x00200 ∷ drive 6038250 0 0x01781 ∷ drive 6038340 0 0x03a80 ∷ drive 6038340 7 0x00000 ∷ drive 6038740 0 0x07a80 ∷ drive 6038740 7 0x08000 ∷ drive 6038740 0 0x03a20 ∷ drive 6038740 7 0x00000 ∷ drive 6038795 0 0x07a20 ∷ drive 6038795 7 0x08000 ∷ drive 6038795 0 0x03b03 ∷ drive 6038795 7 0x00000 ∷ drive 6038850 0 0x07b03 ∷ drive 6038850 7 0x08000 ∷ drive 6038850 0 0x03a00 ∷ drive 6038850 7 0x00000 ∷ drive 6038850 0 0x01b00 ∷ drive 6039250 0 0x05b00 ∷ drive 6039250 7 0x08000 ∷ drive 6039250 0 0x01a00 ∷ drive 6039250 7 0x00000 ∷ drive 6039250 0 0x03b00 ∷ drive 6039650 0 0x07b00 ∷ drive 6039650 7 0x08000 ∷ drive 6039650 0 0x03a00 ∷ drive 6039650 7 0x00000 ∷ drive 6039650 0 0x00000 ∷ []

abbrev heads_run_events : List Event
heads_run_events = events.Accept (command 1) ∷ events.Accept (command 2) ∷ events.Accept (command 3) ∷ events.Accept (command 4) ∷ events.Accept (command 5) ∷ events.Accept (command 6) ∷ events.Run (command 1) ∷ events.End (command 1) 0 ∷ events.Run (command 6) ∷ events.End (command 6) 0 ∷ events.Run (command 5) ∷ events.End (command 5) 0 ∷ events.Run (command 2) ∷ events.End (command 2) 0 ∷ events.Run (command 3) ∷ events.End (command 3) 0 ∷ events.Run (command 4) ∷ events.End (command 4) 0 ∷ []

heads_run_told : shown heads_run (story heads_run (reverse heads_run_rows)) (reverse heads_run_events) ≡ record { history = reverse heads_run_events; ends = Some (ended_good ([])) ∷ Some (ended_good ([])) ∷ Some (ended_good ([])) ∷ Some (ended_good ([])) ∷ Some (ended_good ([])) ∷ Some (ended_good ([])) ∷ []; carried = true }
unfolding need_of sent_of ones union_below line_of form_out form_in
heads_run_told = refl

-- ---- held_run

abbrev held_run : ScenarioValue
held_run = record {
  version = 1;
  hosts = record { dev = 6; latency = 0; most = 8; retries = 2; period = 0; offset = 0; lag = 0; offers = true } ∷ record { dev = 7; latency = 0; most = 8; retries = 2; period = 0; offset = 0; lag = 0; offers = true } ∷ [];
  targets = record { dev = 0; latency = 0; retries = 2; disc = policies.Command; pick = picks.Last; seek = 60000; period = 0; offset = 0; begins = false } ∷ [];
  units = record { target = 0; unit = 0; blocks = 4; size = 16; depth = 8 } ∷ [];
  fills = [];
  tapes = [];
  loads = [];
  commands = record { host = 6; target = 0; unit = 0; at = 0; tag = tags.Simple 1; cdb = (8 ∷ 0 ∷ 0 ∷ 9 ∷ 1 ∷ 0 ∷ []); payload = payloads.Nothing } ∷ record { host = 7; target = 0; unit = 0; at = 5000; tag = tags.Simple 2; cdb = (10 ∷ 0 ∷ 0 ∷ 1 ∷ 1 ∷ 0 ∷ []); payload = payloads.From 16 } ∷ record { host = 7; target = 0; unit = 0; at = 74000; tag = tags.Simple 3; cdb = (10 ∷ 0 ∷ 0 ∷ 2 ∷ 1 ∷ 0 ∷ []); payload = payloads.From 32 } ∷ [];
  aborts = [];
  resets = [];
  faults = [];
}

abbrev pub held_run_rows : List Row
held_run_rows = drive 1200 6 0x00240 ∷ drive 3600 6 0x00640 ∷ drive 4800 6 0x10741 ∷ drive 4890 6 0x10541 ∷ drive 5290 0 0x00200 ∷ drive 5380 6 0x10000 ∷ drive 5380 0 0x02a00 ∷ drive 5780 0 0x06a00 ∷ drive 5780 6 0x101c0 ∷ drive 5835 6 0x181c0 ∷ drive 5835 0 0x02a00 ∷ drive 5835 6 0x10000 ∷ drive 5835 0 0x06a00 ∷ drive 5835 6 0x10020 ∷ drive 5890 6 0x18020 ∷ drive 5890 0 0x02a00 ∷ drive 5890 6 0x10000 ∷ drive 5890 0 0x06a00 ∷ drive 5890 6 0x00001 ∷ drive 5980 6 0x08001 ∷ drive 5980 0 0x02a00 ∷ drive 5980 6 0x00000 ∷ drive 5980 0 0x00a00 ∷ drive 6380 0 0x04a00 ∷ drive 6380 6 0x00008 ∷ drive 6435 6 0x08008 ∷ drive 6435 0 0x00a00 ∷ drive 6435 6 0x00000 ∷ drive 6435 0 0x04a00 ∷ drive 6435 6 0x00100 ∷ drive 6490 6 0x08100 ∷ drive 6490 0 0x00a00 ∷ drive 6490 6 0x00000 ∷ drive 6490 0 0x04a00 ∷ drive 6490 6 0x00100 ∷ drive 6545 6 0x08100 ∷ drive 6545 0 0x00a00 ∷ drive 6545 6 0x00000 ∷ drive 6545 0 0x04a00 ∷ drive 6545 6 0x00109 ∷ drive 6600 6 0x08109 ∷ drive 6600 0 0x00a00 ∷ drive 6600 6 0x00000 ∷ drive 6600 0 0x04a00 ∷ drive 6600 6 0x00001 ∷ drive 6655 6 0x08001 ∷ drive 6655 0 0x00a00 ∷ drive 6655 6 0x00000 ∷ drive 6655 0 0x04a00 ∷ drive 6655 6 0x00100 ∷ drive 6710 6 0x08100 ∷ drive 6710 0 0x00a00 ∷ drive 6710 6 0x00000 ∷ drive 6710 0 0x03a00 ∷ drive 7510 0 0x03a04 ∷ drive 7565 0 0x07a04 ∷ drive 7565 6 0x08000 ∷ drive 7565 0 0x03a00 ∷ drive 7565 6 0x00000 ∷ drive 7565 0 0x00000 ∷ drive 8765 7 0x00280 ∷ drive 11165 7 0x00680 ∷ drive 12365 7 0x10781 ∷ drive 12455 7 0x10581 ∷ drive 12855 0 0x00200 ∷ drive 12945 7 0x10000 ∷ drive 12945 0 0x02a00 ∷ drive 13345 0 0x06a00 ∷ drive 13345 7 0x101c0 ∷ drive 13400 7 0x181c0 ∷ drive 13400 0 0x02a00 ∷ drive 13400 7 0x10000 ∷ drive 13400 0 0x06a00 ∷ drive 13400 7 0x10020 ∷ drive 13455 7 0x18020 ∷ drive 13455 0 0x02a00 ∷ drive 13455 7 0x10000 ∷ drive 13455 0 0x06a00 ∷ drive 13455 7 0x00002 ∷ drive 13545 7 0x08002 ∷ drive 13545 0 0x02a00 ∷ drive 13545 7 0x00000 ∷ drive 13545 0 0x00a00 ∷ drive 13945 0 0x04a00 ∷ drive 13945 7 0x0010a ∷ drive 14000 7 0x0810a ∷ drive 14000 0 0x00a00 ∷ drive 14000 7 0x00000 ∷ drive 14000 0 0x04a00 ∷ drive 14000 7 0x00100 ∷ drive 14055 7 0x08100 ∷ drive 14055 0 0x00a00 ∷ drive 14055 7 0x00000 ∷ drive 14055 0 0x04a00 ∷ drive 14055 7 0x00100 ∷ drive 14110 7 0x08100 ∷ drive 14110 0 0x00a00 ∷ drive 14110 7 0x00000 ∷ drive 14110 0 0x04a00 ∷ drive 14110 7 0x00001 ∷ drive 14165 7 0x08001 ∷ drive 14165 0 0x00a00 ∷ drive 14165 7 0x00000 ∷ drive 14165 0 0x04a00 ∷ drive 14165 7 0x00001 ∷ drive 14220 7 0x08001 ∷ drive 14220 0 0x00a00 ∷ drive 14220 7 0x00000 ∷ drive 14220 0 0x04a00 ∷ drive 14220 7 0x00100 ∷ drive 14275 7 0x08100 ∷ drive 14275 0 0x00a00 ∷ drive 14275 7 0x00000 ∷ drive 14275 0 0x03a00 ∷ drive 15075 0 0x03a04 ∷ drive 15130 0 0x07a04 ∷ drive 15130 7 0x08000 ∷ drive 15130 0 0x03a00 ∷ drive 15130 7 0x00000 ∷ drive 15130 0 0x00000 ∷ drive 66710 0 0x00201 ∷ drive 69110 0 0x00601 ∷ drive 70310 0 0x01741 ∷ drive 70400 0 0x01541 ∷ drive 70800 6 0x00200 ∷ drive 70800 0 0x01741 ∷ drive 70890 0 0x03a80 ∷ drive 70890 6 0x00000 ∷ drive 71290 0 0x07a80 ∷ drive 71290 6 0x08000 ∷ drive 71290 0 0x03a20 ∷ drive 71290 6 0x00000 ∷ drive 71345 0 0x07a20 ∷ drive 71345 6 0x08000 ∷ drive 71345 0 0x03a01 ∷ drive 71345 6 0x00000 ∷ drive 71400 0 0x07a01 ∷ drive 71400 6 0x08000 ∷ drive 71400 0 0x03a00 ∷ drive 71400 6 0x00000 ∷ drive 71400 0 0x01a02 ∷ drive 71800 0 0x05a02 ∷ drive 71800 6 0x08000 ∷ drive 71800 0 0x01a00 ∷ drive 71800 6 0x00000 ∷ drive 71800 0 0x03b00 ∷ drive 72200 0 0x07b00 ∷ drive 72200 6 0x08000 ∷ drive 72200 0 0x03a00 ∷ drive 72200 6 0x00000 ∷ drive 72200 0 0x00000 ∷ drive 73400 6 0x00240 ∷ drive 74000 7 0x00280 ∷ drive 76400 7 0x00680 ∷ drive 76400 6 0x00000 ∷ drive 77600 7 0x10781 ∷ drive 77690 7 0x10581 ∷ drive 78090 0 0x00200 ∷ drive 78180 7 0x10000 ∷ drive 78180 0 0x02a00 ∷ drive 78580 0 0x06a00 ∷ drive 78580 7 0x101c0 ∷ drive 78635 7 0x181c0 ∷ drive 78635 0 0x02a00 ∷ drive 78635 7 0x10000 ∷ drive 78635 0 0x06a00 ∷ drive 78635 7 0x10020 ∷ drive 78690 7 0x18020 ∷ drive 78690 0 0x02a00 ∷ drive 78690 7 0x10000 ∷ drive 78690 0 0x06a00 ∷ drive 78690 7 0x00103 ∷ drive 78780 7 0x08103 ∷ drive 78780 0 0x02a00 ∷ drive 78780 7 0x00000 ∷ drive 78780 0 0x00a00 ∷ drive 79180 0 0x04a00 ∷ drive 79180 7 0x0010a ∷ drive 79235 7 0x0810a ∷ drive 79235 0 0x00a00 ∷ drive 79235 7 0x00000 ∷ drive 79235 0 0x04a00 ∷ drive 79235 7 0x00100 ∷ drive 79290 7 0x08100 ∷ drive 79290 0 0x00a00 ∷ drive 79290 7 0x00000 ∷ drive 79290 0 0x04a00 ∷ drive 79290 7 0x00100 ∷ drive 79345 7 0x08100 ∷ drive 79345 0 0x00a00 ∷ drive 79345 7 0x00000 ∷ drive 79345 0 0x04a00 ∷ drive 79345 7 0x00002 ∷ drive 79400 7 0x08002 ∷ drive 79400 0 0x00a00 ∷ drive 79400 7 0x00000 ∷ drive 79400 0 0x04a00 ∷ drive 79400 7 0x00001 ∷ drive 79455 7 0x08001 ∷ drive 79455 0 0x00a00 ∷ drive 79455 7 0x00000 ∷ drive 79455 0 0x04a00 ∷ drive 79455 7 0x00100 ∷ drive 79510 7 0x08100 ∷ drive 79510 0 0x00a00 ∷ drive 79510 7 0x00000 ∷ drive 79510 0 0x03a00 ∷ drive 80310 0 0x03a04 ∷ drive 80365 0 0x07a04 ∷ drive 80365 7 0x08000 ∷ drive 80365 0 0x03a00 ∷ drive 80365 7 0x00000 ∷ drive 80365 0 0x00000 ∷ drive 81565 6 0x00240 ∷ drive 83965 6 0x00640 ∷ drive 85165 6 0x10741 ∷ drive 85255 6 0x10541 ∷ drive 85655 0 0x00200 ∷ drive 85745 6 0x10000 ∷ drive 85745 0 0x02a00 ∷ drive 86145 0 0x06a00 ∷ drive 86145 6 0x00080 ∷ drive 86235 6 0x08080 ∷ drive 86235 0 0x02a00 ∷ drive 86235 6 0x00000 ∷ drive 86235 0 0x00a00 ∷ drive 86635 0 0x04a00 ∷ drive 86635 6 0x00103 ∷ drive 86690 6 0x08103 ∷ drive 86690 0 0x00a00 ∷ drive 86690 6 0x00000 ∷ drive 86690 0 0x04a00 ∷ drive 86690 6 0x00100 ∷ drive 86745 6 0x08100 ∷ drive 86745 0 0x00a00 ∷ drive 86745 6 0x00000 ∷ drive 86745 0 0x04a00 ∷ drive 86745 6 0x00100 ∷ drive 86800 6 0x08100 ∷ drive 86800 0 0x00a00 ∷ drive 86800 6 0x00000 ∷ drive 86800 0 0x04a00 ∷ drive 86800 6 0x00100 ∷ drive 86855 6 0x08100 ∷ drive 86855 0 0x00a00 ∷ drive 86855 6 0x00000 ∷ drive 86855 0 0x04a00 ∷ drive 86855 6 0x00112 ∷ drive 86910 6 0x08112 ∷ drive 86910 0 0x00a00 ∷ drive 86910 6 0x00000 ∷ drive 86910 0 0x04a00 ∷ drive 86910 6 0x00100 ∷ drive 86965 6 0x08100 ∷ drive 86965 0 0x00a00 ∷ drive 86965 6 0x00000 ∷ drive 86965 0 0x01200 ∷ drive 87765 0 0x01270 ∷ drive 87820 0 0x05270 ∷ drive 87820 6 0x08000 ∷ drive 87820 0 0x01300 ∷ drive 87820 6 0x00000 ∷ drive 87875 0 0x05300 ∷ drive 87875 6 0x08000 ∷ drive 87875 0 0x01305 ∷ drive 87875 6 0x00000 ∷ drive 87930 0 0x05305 ∷ drive 87930 6 0x08000 ∷ drive 87930 0 0x01300 ∷ drive 87930 6 0x00000 ∷ drive 87985 0 0x05300 ∷ drive 87985 6 0x08000 ∷ drive 87985 0 0x01300 ∷ drive 87985 6 0x00000 ∷ drive 88040 0 0x05300 ∷ drive 88040 6 0x08000 ∷ drive 88040 0 0x01300 ∷ drive 88040 6 0x00000 ∷ drive 88095 0 0x05300 ∷ drive 88095 6 0x08000 ∷ drive 88095 0 0x01300 ∷ drive 88095 6 0x00000 ∷ drive 88150 0 0x05300 ∷ drive 88150 6 0x08000 ∷ drive 88150 0 0x0130a ∷ drive 88150 6 0x00000 ∷ drive 88205 0 0x0530a ∷ drive 88205 6 0x08000 ∷ drive 88205 0 0x01300 ∷ drive 88205 6 0x00000 ∷ drive 88260 0 0x05300 ∷ drive 88260 6 0x08000 ∷ drive 88260 0 0x01300 ∷ drive 88260 6 0x00000 ∷ drive 88315 0 0x05300 ∷ drive 88315 6 0x08000 ∷ drive 88315 0 0x01300 ∷ drive 88315 6 0x00000 ∷ drive 88370 0 0x05300 ∷ drive 88370 6 0x08000 ∷ drive 88370 0 0x01300 ∷ drive 88370 6 0x00000 ∷ drive 88425 0 0x05300 ∷ drive 88425 6 0x08000 ∷ drive 88425 0 0x01321 ∷ drive 88425 6 0x00000 ∷ drive 88480 0 0x05321 ∷ drive 88480 6 0x08000 ∷ drive 88480 0 0x01300 ∷ drive 88480 6 0x00000 ∷ drive 88535 0 0x05300 ∷ drive 88535 6 0x08000 ∷ drive 88535 0 0x01300 ∷ drive 88535 6 0x00000 ∷ drive 88590 0 0x05300 ∷ drive 88590 6 0x08000 ∷ drive 88590 0 0x01300 ∷ drive 88590 6 0x00000 ∷ drive 88645 0 0x05300 ∷ drive 88645 6 0x08000 ∷ drive 88645 0 0x01300 ∷ drive 88645 6 0x00000 ∷ drive 88700 0 0x05300 ∷ drive 88700 6 0x08000 ∷ drive 88700 0 0x01300 ∷ drive 88700 6 0x00000 ∷ drive 88755 0 0x05300 ∷ drive 88755 6 0x08000 ∷ drive 88755 0 0x01200 ∷ drive 88755 6 0x00000 ∷ drive 88755 0 0x01b00 ∷ drive 89155 0 0x05b00 ∷ drive 89155 6 0x08000 ∷ drive 89155 0 0x01a00 ∷ drive 89155 6 0x00000 ∷ drive 89155 0 0x03b00 ∷ drive 89555 0 0x07b00 ∷ drive 89555 6 0x08000 ∷ drive 89555 0 0x03a00 ∷ drive 89555 6 0x00000 ∷ drive 89555 0 0x00000 ∷ drive 149555 0 0x00201 ∷ drive 151955 0 0x00601 ∷ drive 153155 0 0x01781 ∷ drive 153245 0 0x01581 ∷ drive 153645 7 0x00200 ∷ drive 153645 0 0x01781 ∷ drive 153735 0 0x03a80 ∷ drive 153735 7 0x00000 ∷ drive 154135 0 0x07a80 ∷ drive 154135 7 0x08000 ∷ drive 154135 0 0x03a20 ∷ drive 154135 7 0x00000 ∷ drive 154190 0 0x07a20 ∷ drive 154190 7 0x08000 ∷ drive 154190 0 0x03b03 ∷ drive 154190 7 0x00000 ∷ drive 154245 0 0x07b03 ∷ drive 154245 7 0x08000 ∷ drive 154245 0 0x03a00 ∷ drive 154245 7 0x00000 ∷ drive 154245 0 0x00200 ∷ drive 154645 0 0x04200 ∷ drive 154645 7 0x00020 ∷ drive 154700 7 0x08020 ∷ drive 154700 0 0x00200 ∷ drive 154700 7 0x00000 ∷ drive 154700 0 0x04200 ∷ drive 154700 7 0x00121 ∷ drive 154755 7 0x08121 ∷ drive 154755 0 0x00200 ∷ drive 154755 7 0x00000 ∷ drive 154755 0 0x04200 ∷ drive 154755 7 0x00122 ∷ drive 154810 7 0x08122 ∷ drive 154810 0 0x00200 ∷ drive 154810 7 0x00000 ∷ drive 154810 0 0x04200 ∷ drive 154810 7 0x00023 ∷ drive 154865 7 0x08023 ∷ drive 154865 0 0x00200 ∷ drive 154865 7 0x00000 ∷ drive 154865 0 0x04200 ∷ drive 154865 7 0x00124 ∷ drive 154920 7 0x08124 ∷ drive 154920 0 0x00200 ∷ drive 154920 7 0x00000 ∷ drive 154920 0 0x04200 ∷ drive 154920 7 0x00025 ∷ drive 154975 7 0x08025 ∷ drive 154975 0 0x00200 ∷ drive 154975 7 0x00000 ∷ drive 154975 0 0x04200 ∷ drive 154975 7 0x00026 ∷ drive 155030 7 0x08026 ∷ drive 155030 0 0x00200 ∷ drive 155030 7 0x00000 ∷ drive 155030 0 0x04200 ∷ drive 155030 7 0x00127 ∷ drive 155085 7 0x08127 ∷ drive 155085 0 0x00200 ∷ drive 155085 7 0x00000 ∷ drive 155085 0 0x04200 ∷ drive 155085 7 0x00128 ∷ drive 155140 7 0x08128 ∷ drive 155140 0 0x00200 ∷ drive 155140 7 0x00000 ∷ drive 155140 0 0x04200 ∷ drive 155140 7 0x00029 ∷ drive 155195 7 0x08029 ∷ drive 155195 0 0x00200 ∷ drive 155195 7 0x00000 ∷ drive 155195 0 0x04200 ∷ drive 155195 7 0x0002a ∷ drive 155250 7 0x0802a ∷ drive 155250 0 0x00200 ∷ drive 155250 7 0x00000 ∷ drive 155250 0 0x04200 ∷ drive 155250 7 0x0012b ∷ drive 155305 7 0x0812b ∷ drive 155305 0 0x00200 ∷ drive 155305 7 0x00000 ∷ drive 155305 0 0x04200 ∷ drive 155305 7 0x0002c ∷ drive 155360 7 0x0802c ∷ drive 155360 0 0x00200 ∷ drive 155360 7 0x00000 ∷ drive 155360 0 0x04200 ∷ drive 155360 7 0x0012d ∷ drive 155415 7 0x0812d ∷ drive 155415 0 0x00200 ∷ drive 155415 7 0x00000 ∷ drive 155415 0 0x04200 ∷ drive 155415 7 0x0012e ∷ drive 155470 7 0x0812e ∷ drive 155470 0 0x00200 ∷ drive 155470 7 0x00000 ∷ drive 155470 0 0x04200 ∷ drive 155470 7 0x0002f ∷ drive 155525 7 0x0802f ∷ drive 155525 0 0x00200 ∷ drive 155525 7 0x00000 ∷ drive 155525 0 0x01a00 ∷ drive 156325 0 0x01b00 ∷ drive 156380 0 0x05b00 ∷ drive 156380 7 0x08000 ∷ drive 156380 0 0x01a00 ∷ drive 156380 7 0x00000 ∷ drive 156380 0 0x03b00 ∷ drive 156780 0 0x07b00 ∷ drive 156780 7 0x08000 ∷ drive 156780 0 0x03a00 ∷ drive 156780 7 0x00000 ∷ drive 156780 0 0x00000 ∷ drive 216780 0 0x00201 ∷ drive 219180 0 0x00601 ∷ drive 220380 0 0x01781 ∷ drive 220470 0 0x01581 ∷ drive 220870 7 0x00200 ∷ drive 220870 0 0x01781 ∷ drive 220960 0 0x03a80 ∷ drive 220960 7 0x00000 ∷ drive 221360 0 0x07a80 ∷ drive 221360 7 0x08000 ∷ drive 221360 0 0x03a20 ∷ drive 221360 7 0x00000 ∷ drive 221415 0 0x07a20 ∷ drive 221415 7 0x08000 ∷ drive 221415 0 0x03a02 ∷ drive 221415 7 0x00000 ∷ drive 221470 0 0x07a02 ∷ drive 221470 7 0x08000 ∷ drive 221470 0 0x03a00 ∷ drive 221470 7 0x00000 ∷ drive 221470 0 0x00200 ∷ drive 221870 0 0x04200 ∷ drive 221870 7 0x00010 ∷ drive 221925 7 0x08010 ∷ drive 221925 0 0x00200 ∷ drive 221925 7 0x00000 ∷ drive 221925 0 0x04200 ∷ drive 221925 7 0x00111 ∷ drive 221980 7 0x08111 ∷ drive 221980 0 0x00200 ∷ drive 221980 7 0x00000 ∷ drive 221980 0 0x04200 ∷ drive 221980 7 0x00112 ∷ drive 222035 7 0x08112 ∷ drive 222035 0 0x00200 ∷ drive 222035 7 0x00000 ∷ drive 222035 0 0x04200 ∷ drive 222035 7 0x00013 ∷ drive 222090 7 0x08013 ∷ drive 222090 0 0x00200 ∷ drive 222090 7 0x00000 ∷ drive 222090 0 0x04200 ∷ drive 222090 7 0x00114 ∷ drive 222145 7 0x08114 ∷ drive 222145 0 0x00200 ∷ drive 222145 7 0x00000 ∷ drive 222145 0 0x04200 ∷ drive 222145 7 0x00015 ∷ drive 222200 7 0x08015 ∷ drive 222200 0 0x00200 ∷ drive 222200 7 0x00000 ∷ drive 222200 0 0x04200 ∷ drive 222200 7 0x00016 ∷ drive 222255 7 0x08016 ∷ drive 222255 0 0x00200 ∷ drive 222255 7 0x00000 ∷ drive 222255 0 0x04200 ∷ drive 222255 7 0x00117 ∷ drive 222310 7 0x08117 ∷ drive 222310 0 0x00200 ∷ drive 222310 7 0x00000 ∷ drive 222310 0 0x04200 ∷ drive 222310 7 0x00118 ∷ drive 222365 7 0x08118 ∷ drive 222365 0 0x00200 ∷ drive 222365 7 0x00000 ∷ drive 222365 0 0x04200 ∷ drive 222365 7 0x00019 ∷ drive 222420 7 0x08019 ∷ drive 222420 0 0x00200 ∷ drive 222420 7 0x00000 ∷ drive 222420 0 0x04200 ∷ drive 222420 7 0x0001a ∷ drive 222475 7 0x0801a ∷ drive 222475 0 0x00200 ∷ drive 222475 7 0x00000 ∷ drive 222475 0 0x04200 ∷ drive 222475 7 0x0011b ∷ drive 222530 7 0x0811b ∷ drive 222530 0 0x00200 ∷ drive 222530 7 0x00000 ∷ drive 222530 0 0x04200 ∷ drive 222530 7 0x0001c ∷ drive 222585 7 0x0801c ∷ drive 222585 0 0x00200 ∷ drive 222585 7 0x00000 ∷ drive 222585 0 0x04200 ∷ drive 222585 7 0x0011d ∷ drive 222640 7 0x0811d ∷ drive 222640 0 0x00200 ∷ drive 222640 7 0x00000 ∷ drive 222640 0 0x04200 ∷ drive 222640 7 0x0011e ∷ drive 222695 7 0x0811e ∷ drive 222695 0 0x00200 ∷ drive 222695 7 0x00000 ∷ drive 222695 0 0x04200 ∷ drive 222695 7 0x0001f ∷ drive 222750 7 0x0801f ∷ drive 222750 0 0x00200 ∷ drive 222750 7 0x00000 ∷ drive 222750 0 0x01a00 ∷ drive 223550 0 0x01b00 ∷ drive 223605 0 0x05b00 ∷ drive 223605 7 0x08000 ∷ drive 223605 0 0x01a00 ∷ drive 223605 7 0x00000 ∷ drive 223605 0 0x03b00 ∷ drive 224005 0 0x07b00 ∷ drive 224005 7 0x08000 ∷ drive 224005 0 0x03a00 ∷ drive 224005 7 0x00000 ∷ drive 224005 0 0x00000 ∷ []

abbrev held_run_events : List Event
held_run_events = events.Accept (command 1) ∷ events.Accept (command 2) ∷ events.Run (command 1) ∷ events.End (command 1) 2 ∷ events.Accept (command 3) ∷ events.Accept (sense 1) ∷ events.Run (sense 1) ∷ events.End (sense 1) 0 ∷ events.Run (command 3) ∷ events.End (command 3) 0 ∷ events.Run (command 2) ∷ events.End (command 2) 0 ∷ []

held_run_told : shown held_run (story held_run (reverse held_run_rows)) (reverse held_run_events) ≡ record { history = reverse held_run_events; ends = Some (ended_check (Some (sense_of 5 33 0))) ∷ Some (ended_good ([])) ∷ Some (ended_good ([])) ∷ []; carried = true }
unfolding need_of sent_of ones union_below line_of form_out form_in
held_run_told = refl

-- ---- last_block_written_run

abbrev last_block_written_run : ScenarioValue
last_block_written_run = record {
  version = 1;
  hosts = record { dev = 7; latency = 0; most = 1; retries = 2; period = 0; offset = 0; lag = 0; offers = true } ∷ [];
  targets = record { dev = 0; latency = 0; retries = 2; disc = policies.Never; pick = picks.First; seek = 0; period = 0; offset = 0; begins = false } ∷ [];
  units = record { target = 0; unit = 0; blocks = 4294967296; size = 512; depth = 1 } ∷ [];
  fills = [];
  tapes = [];
  loads = [];
  commands = record { host = 7; target = 0; unit = 0; at = 0; tag = tags.Untagged; cdb = (42 ∷ 0 ∷ 255 ∷ 255 ∷ 255 ∷ 255 ∷ 0 ∷ 0 ∷ 1 ∷ 0 ∷ []); payload = payloads.From 0 } ∷ [];
  aborts = [];
  resets = [];
  faults = [];
}

abbrev pub last_block_written_run_rows : List Row
last_block_written_run_rows = drive 1200 7 0x00280 ∷ drive 3600 7 0x00680 ∷ drive 4800 7 0x10781 ∷ drive 4890 7 0x10581 ∷ drive 5290 0 0x00200 ∷ drive 5380 7 0x10000 ∷ drive 5380 0 0x02a00 ∷ drive 5780 0 0x06a00 ∷ drive 5780 7 0x001c0 ∷ drive 5870 7 0x081c0 ∷ drive 5870 0 0x02a00 ∷ drive 5870 7 0x00000 ∷ drive 5870 0 0x00a00 ∷ drive 6270 0 0x04a00 ∷ drive 6270 7 0x0002a ∷ drive 6325 7 0x0802a ∷ drive 6325 0 0x00a00 ∷ drive 6325 7 0x00000 ∷ drive 6325 0 0x04a00 ∷ drive 6325 7 0x00100 ∷ drive 6380 7 0x08100 ∷ drive 6380 0 0x00a00 ∷ drive 6380 7 0x00000 ∷ drive 6380 0 0x04a00 ∷ drive 6380 7 0x001ff ∷ drive 6435 7 0x081ff ∷ drive 6435 0 0x00a00 ∷ drive 6435 7 0x00000 ∷ drive 6435 0 0x04a00 ∷ drive 6435 7 0x001ff ∷ drive 6490 7 0x081ff ∷ drive 6490 0 0x00a00 ∷ drive 6490 7 0x00000 ∷ drive 6490 0 0x04a00 ∷ drive 6490 7 0x001ff ∷ drive 6545 7 0x081ff ∷ drive 6545 0 0x00a00 ∷ drive 6545 7 0x00000 ∷ drive 6545 0 0x04a00 ∷ drive 6545 7 0x001ff ∷ drive 6600 7 0x081ff ∷ drive 6600 0 0x00a00 ∷ drive 6600 7 0x00000 ∷ drive 6600 0 0x04a00 ∷ drive 6600 7 0x00100 ∷ drive 6655 7 0x08100 ∷ drive 6655 0 0x00a00 ∷ drive 6655 7 0x00000 ∷ drive 6655 0 0x04a00 ∷ drive 6655 7 0x00100 ∷ drive 6710 7 0x08100 ∷ drive 6710 0 0x00a00 ∷ drive 6710 7 0x00000 ∷ drive 6710 0 0x04a00 ∷ drive 6710 7 0x00001 ∷ drive 6765 7 0x08001 ∷ drive 6765 0 0x00a00 ∷ drive 6765 7 0x00000 ∷ drive 6765 0 0x04a00 ∷ drive 6765 7 0x00100 ∷ drive 6820 7 0x08100 ∷ drive 6820 0 0x00a00 ∷ drive 6820 7 0x00000 ∷ drive 6820 0 0x00200 ∷ drive 7220 0 0x04200 ∷ drive 7220 7 0x00100 ∷ drive 7275 7 0x08100 ∷ drive 7275 0 0x00200 ∷ drive 7275 7 0x00000 ∷ drive 7275 0 0x04200 ∷ drive 7275 7 0x00001 ∷ drive 7330 7 0x08001 ∷ drive 7330 0 0x00200 ∷ drive 7330 7 0x00000 ∷ drive 7330 0 0x04200 ∷ drive 7330 7 0x00002 ∷ drive 7385 7 0x08002 ∷ drive 7385 0 0x00200 ∷ drive 7385 7 0x00000 ∷ drive 7385 0 0x04200 ∷ drive 7385 7 0x00103 ∷ drive 7440 7 0x08103 ∷ drive 7440 0 0x00200 ∷ drive 7440 7 0x00000 ∷ drive 7440 0 0x04200 ∷ drive 7440 7 0x00004 ∷ drive 7495 7 0x08004 ∷ drive 7495 0 0x00200 ∷ drive 7495 7 0x00000 ∷ drive 7495 0 0x04200 ∷ drive 7495 7 0x00105 ∷ drive 7550 7 0x08105 ∷ drive 7550 0 0x00200 ∷ drive 7550 7 0x00000 ∷ drive 7550 0 0x04200 ∷ drive 7550 7 0x00106 ∷ drive 7605 7 0x08106 ∷ drive 7605 0 0x00200 ∷ drive 7605 7 0x00000 ∷ drive 7605 0 0x04200 ∷ drive 7605 7 0x00007 ∷ drive 7660 7 0x08007 ∷ drive 7660 0 0x00200 ∷ drive 7660 7 0x00000 ∷ drive 7660 0 0x04200 ∷ drive 7660 7 0x00008 ∷ drive 7715 7 0x08008 ∷ drive 7715 0 0x00200 ∷ drive 7715 7 0x00000 ∷ drive 7715 0 0x04200 ∷ drive 7715 7 0x00109 ∷ drive 7770 7 0x08109 ∷ drive 7770 0 0x00200 ∷ drive 7770 7 0x00000 ∷ drive 7770 0 0x04200 ∷ drive 7770 7 0x0010a ∷ drive 7825 7 0x0810a ∷ drive 7825 0 0x00200 ∷ drive 7825 7 0x00000 ∷ drive 7825 0 0x04200 ∷ drive 7825 7 0x0000b ∷ drive 7880 7 0x0800b ∷ drive 7880 0 0x00200 ∷ drive 7880 7 0x00000 ∷ drive 7880 0 0x04200 ∷ drive 7880 7 0x0010c ∷ drive 7935 7 0x0810c ∷ drive 7935 0 0x00200 ∷ drive 7935 7 0x00000 ∷ drive 7935 0 0x04200 ∷ drive 7935 7 0x0000d ∷ drive 7990 7 0x0800d ∷ drive 7990 0 0x00200 ∷ drive 7990 7 0x00000 ∷ drive 7990 0 0x04200 ∷ drive 7990 7 0x0000e ∷ drive 8045 7 0x0800e ∷ drive 8045 0 0x00200 ∷ drive 8045 7 0x00000 ∷ drive 8045 0 0x04200 ∷ drive 8045 7 0x0010f ∷ drive 8100 7 0x0810f ∷ drive 8100 0 0x00200 ∷ drive 8100 7 0x00000 ∷ drive 8100 0 0x04200 ∷ drive 8100 7 0x00010 ∷ drive 8155 7 0x08010 ∷ drive 8155 0 0x00200 ∷ drive 8155 7 0x00000 ∷ drive 8155 0 0x04200 ∷ drive 8155 7 0x00111 ∷ drive 8210 7 0x08111 ∷ drive 8210 0 0x00200 ∷ drive 8210 7 0x00000 ∷ drive 8210 0 0x04200 ∷ drive 8210 7 0x00112 ∷ drive 8265 7 0x08112 ∷ drive 8265 0 0x00200 ∷ drive 8265 7 0x00000 ∷ drive 8265 0 0x04200 ∷ drive 8265 7 0x00013 ∷ drive 8320 7 0x08013 ∷ drive 8320 0 0x00200 ∷ drive 8320 7 0x00000 ∷ drive 8320 0 0x04200 ∷ drive 8320 7 0x00114 ∷ drive 8375 7 0x08114 ∷ drive 8375 0 0x00200 ∷ drive 8375 7 0x00000 ∷ drive 8375 0 0x04200 ∷ drive 8375 7 0x00015 ∷ drive 8430 7 0x08015 ∷ drive 8430 0 0x00200 ∷ drive 8430 7 0x00000 ∷ drive 8430 0 0x04200 ∷ drive 8430 7 0x00016 ∷ drive 8485 7 0x08016 ∷ drive 8485 0 0x00200 ∷ drive 8485 7 0x00000 ∷ drive 8485 0 0x04200 ∷ drive 8485 7 0x00117 ∷ drive 8540 7 0x08117 ∷ drive 8540 0 0x00200 ∷ drive 8540 7 0x00000 ∷ drive 8540 0 0x04200 ∷ drive 8540 7 0x00118 ∷ drive 8595 7 0x08118 ∷ drive 8595 0 0x00200 ∷ drive 8595 7 0x00000 ∷ drive 8595 0 0x04200 ∷ drive 8595 7 0x00019 ∷ drive 8650 7 0x08019 ∷ drive 8650 0 0x00200 ∷ drive 8650 7 0x00000 ∷ drive 8650 0 0x04200 ∷ drive 8650 7 0x0001a ∷ drive 8705 7 0x0801a ∷ drive 8705 0 0x00200 ∷ drive 8705 7 0x00000 ∷ drive 8705 0 0x04200 ∷ drive 8705 7 0x0011b ∷ drive 8760 7 0x0811b ∷ drive 8760 0 0x00200 ∷ drive 8760 7 0x00000 ∷ drive 8760 0 0x04200 ∷ drive 8760 7 0x0001c ∷ drive 8815 7 0x0801c ∷ drive 8815 0 0x00200 ∷ drive 8815 7 0x00000 ∷ drive 8815 0 0x04200 ∷ drive 8815 7 0x0011d ∷ drive 8870 7 0x0811d ∷ drive 8870 0 0x00200 ∷ drive 8870 7 0x00000 ∷ drive 8870 0 0x04200 ∷ drive 8870 7 0x0011e ∷ drive 8925 7 0x0811e ∷ drive 8925 0 0x00200 ∷ drive 8925 7 0x00000 ∷ drive 8925 0 0x04200 ∷ drive 8925 7 0x0001f ∷ drive 8980 7 0x0801f ∷ drive 8980 0 0x00200 ∷ drive 8980 7 0x00000 ∷ drive 8980 0 0x04200 ∷ drive 8980 7 0x00020 ∷ drive 9035 7 0x08020 ∷ drive 9035 0 0x00200 ∷ drive 9035 7 0x00000 ∷ drive 9035 0 0x04200 ∷ drive 9035 7 0x00121 ∷ drive 9090 7 0x08121 ∷ drive 9090 0 0x00200 ∷ drive 9090 7 0x00000 ∷ drive 9090 0 0x04200 ∷ drive 9090 7 0x00122 ∷ drive 9145 7 0x08122 ∷ drive 9145 0 0x00200 ∷ drive 9145 7 0x00000 ∷ drive 9145 0 0x04200 ∷ drive 9145 7 0x00023 ∷ drive 9200 7 0x08023 ∷ drive 9200 0 0x00200 ∷ drive 9200 7 0x00000 ∷ drive 9200 0 0x04200 ∷ drive 9200 7 0x00124 ∷ drive 9255 7 0x08124 ∷ drive 9255 0 0x00200 ∷ drive 9255 7 0x00000 ∷ drive 9255 0 0x04200 ∷ drive 9255 7 0x00025 ∷ drive 9310 7 0x08025 ∷ drive 9310 0 0x00200 ∷ drive 9310 7 0x00000 ∷ drive 9310 0 0x04200 ∷ drive 9310 7 0x00026 ∷ drive 9365 7 0x08026 ∷ drive 9365 0 0x00200 ∷ drive 9365 7 0x00000 ∷ drive 9365 0 0x04200 ∷ drive 9365 7 0x00127 ∷ drive 9420 7 0x08127 ∷ drive 9420 0 0x00200 ∷ drive 9420 7 0x00000 ∷ drive 9420 0 0x04200 ∷ drive 9420 7 0x00128 ∷ drive 9475 7 0x08128 ∷ drive 9475 0 0x00200 ∷ drive 9475 7 0x00000 ∷ drive 9475 0 0x04200 ∷ drive 9475 7 0x00029 ∷ drive 9530 7 0x08029 ∷ drive 9530 0 0x00200 ∷ drive 9530 7 0x00000 ∷ drive 9530 0 0x04200 ∷ drive 9530 7 0x0002a ∷ drive 9585 7 0x0802a ∷ drive 9585 0 0x00200 ∷ drive 9585 7 0x00000 ∷ drive 9585 0 0x04200 ∷ drive 9585 7 0x0012b ∷ drive 9640 7 0x0812b ∷ drive 9640 0 0x00200 ∷ drive 9640 7 0x00000 ∷ drive 9640 0 0x04200 ∷ drive 9640 7 0x0002c ∷ drive 9695 7 0x0802c ∷ drive 9695 0 0x00200 ∷ drive 9695 7 0x00000 ∷ drive 9695 0 0x04200 ∷ drive 9695 7 0x0012d ∷ drive 9750 7 0x0812d ∷ drive 9750 0 0x00200 ∷ drive 9750 7 0x00000 ∷ drive 9750 0 0x04200 ∷ drive 9750 7 0x0012e ∷ drive 9805 7 0x0812e ∷ drive 9805 0 0x00200 ∷ drive 9805 7 0x00000 ∷ drive 9805 0 0x04200 ∷ drive 9805 7 0x0002f ∷ drive 9860 7 0x0802f ∷ drive 9860 0 0x00200 ∷ drive 9860 7 0x00000 ∷ drive 9860 0 0x04200 ∷ drive 9860 7 0x00130 ∷ drive 9915 7 0x08130 ∷ drive 9915 0 0x00200 ∷ drive 9915 7 0x00000 ∷ drive 9915 0 0x04200 ∷ drive 9915 7 0x00031 ∷ drive 9970 7 0x08031 ∷ drive 9970 0 0x00200 ∷ drive 9970 7 0x00000 ∷ drive 9970 0 0x04200 ∷ drive 9970 7 0x00032 ∷ drive 10025 7 0x08032 ∷ drive 10025 0 0x00200 ∷ drive 10025 7 0x00000 ∷ drive 10025 0 0x04200 ∷ drive 10025 7 0x00133 ∷ drive 10080 7 0x08133 ∷ drive 10080 0 0x00200 ∷ drive 10080 7 0x00000 ∷ drive 10080 0 0x04200 ∷ drive 10080 7 0x00034 ∷ drive 10135 7 0x08034 ∷ drive 10135 0 0x00200 ∷ drive 10135 7 0x00000 ∷ drive 10135 0 0x04200 ∷ drive 10135 7 0x00135 ∷ drive 10190 7 0x08135 ∷ drive 10190 0 0x00200 ∷ drive 10190 7 0x00000 ∷ drive 10190 0 0x04200 ∷ drive 10190 7 0x00136 ∷ drive 10245 7 0x08136 ∷ drive 10245 0 0x00200 ∷ drive 10245 7 0x00000 ∷ drive 10245 0 0x04200 ∷ drive 10245 7 0x00037 ∷ drive 10300 7 0x08037 ∷ drive 10300 0 0x00200 ∷ drive 10300 7 0x00000 ∷ drive 10300 0 0x04200 ∷ drive 10300 7 0x00038 ∷ drive 10355 7 0x08038 ∷ drive 10355 0 0x00200 ∷ drive 10355 7 0x00000 ∷ drive 10355 0 0x04200 ∷ drive 10355 7 0x00139 ∷ drive 10410 7 0x08139 ∷ drive 10410 0 0x00200 ∷ drive 10410 7 0x00000 ∷ drive 10410 0 0x04200 ∷ drive 10410 7 0x0013a ∷ drive 10465 7 0x0813a ∷ drive 10465 0 0x00200 ∷ drive 10465 7 0x00000 ∷ drive 10465 0 0x04200 ∷ drive 10465 7 0x0003b ∷ drive 10520 7 0x0803b ∷ drive 10520 0 0x00200 ∷ drive 10520 7 0x00000 ∷ drive 10520 0 0x04200 ∷ drive 10520 7 0x0013c ∷ drive 10575 7 0x0813c ∷ drive 10575 0 0x00200 ∷ drive 10575 7 0x00000 ∷ drive 10575 0 0x04200 ∷ drive 10575 7 0x0003d ∷ drive 10630 7 0x0803d ∷ drive 10630 0 0x00200 ∷ drive 10630 7 0x00000 ∷ drive 10630 0 0x04200 ∷ drive 10630 7 0x0003e ∷ drive 10685 7 0x0803e ∷ drive 10685 0 0x00200 ∷ drive 10685 7 0x00000 ∷ drive 10685 0 0x04200 ∷ drive 10685 7 0x0013f ∷ drive 10740 7 0x0813f ∷ drive 10740 0 0x00200 ∷ drive 10740 7 0x00000 ∷ drive 10740 0 0x04200 ∷ drive 10740 7 0x00040 ∷ drive 10795 7 0x08040 ∷ drive 10795 0 0x00200 ∷ drive 10795 7 0x00000 ∷ drive 10795 0 0x04200 ∷ drive 10795 7 0x00141 ∷ drive 10850 7 0x08141 ∷ drive 10850 0 0x00200 ∷ drive 10850 7 0x00000 ∷ drive 10850 0 0x04200 ∷ drive 10850 7 0x00142 ∷ drive 10905 7 0x08142 ∷ drive 10905 0 0x00200 ∷ drive 10905 7 0x00000 ∷ drive 10905 0 0x04200 ∷ drive 10905 7 0x00043 ∷ drive 10960 7 0x08043 ∷ drive 10960 0 0x00200 ∷ drive 10960 7 0x00000 ∷ drive 10960 0 0x04200 ∷ drive 10960 7 0x00144 ∷ drive 11015 7 0x08144 ∷ drive 11015 0 0x00200 ∷ drive 11015 7 0x00000 ∷ drive 11015 0 0x04200 ∷ drive 11015 7 0x00045 ∷ drive 11070 7 0x08045 ∷ drive 11070 0 0x00200 ∷ drive 11070 7 0x00000 ∷ drive 11070 0 0x04200 ∷ drive 11070 7 0x00046 ∷ drive 11125 7 0x08046 ∷ drive 11125 0 0x00200 ∷ drive 11125 7 0x00000 ∷ drive 11125 0 0x04200 ∷ drive 11125 7 0x00147 ∷ drive 11180 7 0x08147 ∷ drive 11180 0 0x00200 ∷ drive 11180 7 0x00000 ∷ drive 11180 0 0x04200 ∷ drive 11180 7 0x00148 ∷ drive 11235 7 0x08148 ∷ drive 11235 0 0x00200 ∷ drive 11235 7 0x00000 ∷ drive 11235 0 0x04200 ∷ drive 11235 7 0x00049 ∷ drive 11290 7 0x08049 ∷ drive 11290 0 0x00200 ∷ drive 11290 7 0x00000 ∷ drive 11290 0 0x04200 ∷ drive 11290 7 0x0004a ∷ drive 11345 7 0x0804a ∷ drive 11345 0 0x00200 ∷ drive 11345 7 0x00000 ∷ drive 11345 0 0x04200 ∷ drive 11345 7 0x0014b ∷ drive 11400 7 0x0814b ∷ drive 11400 0 0x00200 ∷ drive 11400 7 0x00000 ∷ drive 11400 0 0x04200 ∷ drive 11400 7 0x0004c ∷ drive 11455 7 0x0804c ∷ drive 11455 0 0x00200 ∷ drive 11455 7 0x00000 ∷ drive 11455 0 0x04200 ∷ drive 11455 7 0x0014d ∷ drive 11510 7 0x0814d ∷ drive 11510 0 0x00200 ∷ drive 11510 7 0x00000 ∷ drive 11510 0 0x04200 ∷ drive 11510 7 0x0014e ∷ drive 11565 7 0x0814e ∷ drive 11565 0 0x00200 ∷ drive 11565 7 0x00000 ∷ drive 11565 0 0x04200 ∷ drive 11565 7 0x0004f ∷ drive 11620 7 0x0804f ∷ drive 11620 0 0x00200 ∷ drive 11620 7 0x00000 ∷ drive 11620 0 0x04200 ∷ drive 11620 7 0x00150 ∷ drive 11675 7 0x08150 ∷ drive 11675 0 0x00200 ∷ drive 11675 7 0x00000 ∷ drive 11675 0 0x04200 ∷ drive 11675 7 0x00051 ∷ drive 11730 7 0x08051 ∷ drive 11730 0 0x00200 ∷ drive 11730 7 0x00000 ∷ drive 11730 0 0x04200 ∷ drive 11730 7 0x00052 ∷ drive 11785 7 0x08052 ∷ drive 11785 0 0x00200 ∷ drive 11785 7 0x00000 ∷ drive 11785 0 0x04200 ∷ drive 11785 7 0x00153 ∷ drive 11840 7 0x08153 ∷ drive 11840 0 0x00200 ∷ drive 11840 7 0x00000 ∷ drive 11840 0 0x04200 ∷ drive 11840 7 0x00054 ∷ drive 11895 7 0x08054 ∷ drive 11895 0 0x00200 ∷ drive 11895 7 0x00000 ∷ drive 11895 0 0x04200 ∷ drive 11895 7 0x00155 ∷ drive 11950 7 0x08155 ∷ drive 11950 0 0x00200 ∷ drive 11950 7 0x00000 ∷ drive 11950 0 0x04200 ∷ drive 11950 7 0x00156 ∷ drive 12005 7 0x08156 ∷ drive 12005 0 0x00200 ∷ drive 12005 7 0x00000 ∷ drive 12005 0 0x04200 ∷ drive 12005 7 0x00057 ∷ drive 12060 7 0x08057 ∷ drive 12060 0 0x00200 ∷ drive 12060 7 0x00000 ∷ drive 12060 0 0x04200 ∷ drive 12060 7 0x00058 ∷ drive 12115 7 0x08058 ∷ drive 12115 0 0x00200 ∷ drive 12115 7 0x00000 ∷ drive 12115 0 0x04200 ∷ drive 12115 7 0x00159 ∷ drive 12170 7 0x08159 ∷ drive 12170 0 0x00200 ∷ drive 12170 7 0x00000 ∷ drive 12170 0 0x04200 ∷ drive 12170 7 0x0015a ∷ drive 12225 7 0x0815a ∷ drive 12225 0 0x00200 ∷ drive 12225 7 0x00000 ∷ drive 12225 0 0x04200 ∷ drive 12225 7 0x0005b ∷ drive 12280 7 0x0805b ∷ drive 12280 0 0x00200 ∷ drive 12280 7 0x00000 ∷ drive 12280 0 0x04200 ∷ drive 12280 7 0x0015c ∷ drive 12335 7 0x0815c ∷ drive 12335 0 0x00200 ∷ drive 12335 7 0x00000 ∷ drive 12335 0 0x04200 ∷ drive 12335 7 0x0005d ∷ drive 12390 7 0x0805d ∷ drive 12390 0 0x00200 ∷ drive 12390 7 0x00000 ∷ drive 12390 0 0x04200 ∷ drive 12390 7 0x0005e ∷ drive 12445 7 0x0805e ∷ drive 12445 0 0x00200 ∷ drive 12445 7 0x00000 ∷ drive 12445 0 0x04200 ∷ drive 12445 7 0x0015f ∷ drive 12500 7 0x0815f ∷ drive 12500 0 0x00200 ∷ drive 12500 7 0x00000 ∷ drive 12500 0 0x04200 ∷ drive 12500 7 0x00160 ∷ drive 12555 7 0x08160 ∷ drive 12555 0 0x00200 ∷ drive 12555 7 0x00000 ∷ drive 12555 0 0x04200 ∷ drive 12555 7 0x00061 ∷ drive 12610 7 0x08061 ∷ drive 12610 0 0x00200 ∷ drive 12610 7 0x00000 ∷ drive 12610 0 0x04200 ∷ drive 12610 7 0x00062 ∷ drive 12665 7 0x08062 ∷ drive 12665 0 0x00200 ∷ drive 12665 7 0x00000 ∷ drive 12665 0 0x04200 ∷ drive 12665 7 0x00163 ∷ drive 12720 7 0x08163 ∷ drive 12720 0 0x00200 ∷ drive 12720 7 0x00000 ∷ drive 12720 0 0x04200 ∷ drive 12720 7 0x00064 ∷ drive 12775 7 0x08064 ∷ drive 12775 0 0x00200 ∷ drive 12775 7 0x00000 ∷ drive 12775 0 0x04200 ∷ drive 12775 7 0x00165 ∷ drive 12830 7 0x08165 ∷ drive 12830 0 0x00200 ∷ drive 12830 7 0x00000 ∷ drive 12830 0 0x04200 ∷ drive 12830 7 0x00166 ∷ drive 12885 7 0x08166 ∷ drive 12885 0 0x00200 ∷ drive 12885 7 0x00000 ∷ drive 12885 0 0x04200 ∷ drive 12885 7 0x00067 ∷ drive 12940 7 0x08067 ∷ drive 12940 0 0x00200 ∷ drive 12940 7 0x00000 ∷ drive 12940 0 0x04200 ∷ drive 12940 7 0x00068 ∷ drive 12995 7 0x08068 ∷ drive 12995 0 0x00200 ∷ drive 12995 7 0x00000 ∷ drive 12995 0 0x04200 ∷ drive 12995 7 0x00169 ∷ drive 13050 7 0x08169 ∷ drive 13050 0 0x00200 ∷ drive 13050 7 0x00000 ∷ drive 13050 0 0x04200 ∷ drive 13050 7 0x0016a ∷ drive 13105 7 0x0816a ∷ drive 13105 0 0x00200 ∷ drive 13105 7 0x00000 ∷ drive 13105 0 0x04200 ∷ drive 13105 7 0x0006b ∷ drive 13160 7 0x0806b ∷ drive 13160 0 0x00200 ∷ drive 13160 7 0x00000 ∷ drive 13160 0 0x04200 ∷ drive 13160 7 0x0016c ∷ drive 13215 7 0x0816c ∷ drive 13215 0 0x00200 ∷ drive 13215 7 0x00000 ∷ drive 13215 0 0x04200 ∷ drive 13215 7 0x0006d ∷ drive 13270 7 0x0806d ∷ drive 13270 0 0x00200 ∷ drive 13270 7 0x00000 ∷ drive 13270 0 0x04200 ∷ drive 13270 7 0x0006e ∷ drive 13325 7 0x0806e ∷ drive 13325 0 0x00200 ∷ drive 13325 7 0x00000 ∷ drive 13325 0 0x04200 ∷ drive 13325 7 0x0016f ∷ drive 13380 7 0x0816f ∷ drive 13380 0 0x00200 ∷ drive 13380 7 0x00000 ∷ drive 13380 0 0x04200 ∷ drive 13380 7 0x00070 ∷ drive 13435 7 0x08070 ∷ drive 13435 0 0x00200 ∷ drive 13435 7 0x00000 ∷ drive 13435 0 0x04200 ∷ drive 13435 7 0x00171 ∷ drive 13490 7 0x08171 ∷ drive 13490 0 0x00200 ∷ drive 13490 7 0x00000 ∷ drive 13490 0 0x04200 ∷ drive 13490 7 0x00172 ∷ drive 13545 7 0x08172 ∷ drive 13545 0 0x00200 ∷ drive 13545 7 0x00000 ∷ drive 13545 0 0x04200 ∷ drive 13545 7 0x00073 ∷ drive 13600 7 0x08073 ∷ drive 13600 0 0x00200 ∷ drive 13600 7 0x00000 ∷ drive 13600 0 0x04200 ∷ drive 13600 7 0x00174 ∷ drive 13655 7 0x08174 ∷ drive 13655 0 0x00200 ∷ drive 13655 7 0x00000 ∷ drive 13655 0 0x04200 ∷ drive 13655 7 0x00075 ∷ drive 13710 7 0x08075 ∷ drive 13710 0 0x00200 ∷ drive 13710 7 0x00000 ∷ drive 13710 0 0x04200 ∷ drive 13710 7 0x00076 ∷ drive 13765 7 0x08076 ∷ drive 13765 0 0x00200 ∷ drive 13765 7 0x00000 ∷ drive 13765 0 0x04200 ∷ drive 13765 7 0x00177 ∷ drive 13820 7 0x08177 ∷ drive 13820 0 0x00200 ∷ drive 13820 7 0x00000 ∷ drive 13820 0 0x04200 ∷ drive 13820 7 0x00178 ∷ drive 13875 7 0x08178 ∷ drive 13875 0 0x00200 ∷ drive 13875 7 0x00000 ∷ drive 13875 0 0x04200 ∷ drive 13875 7 0x00079 ∷ drive 13930 7 0x08079 ∷ drive 13930 0 0x00200 ∷ drive 13930 7 0x00000 ∷ drive 13930 0 0x04200 ∷ drive 13930 7 0x0007a ∷ drive 13985 7 0x0807a ∷ drive 13985 0 0x00200 ∷ drive 13985 7 0x00000 ∷ drive 13985 0 0x04200 ∷ drive 13985 7 0x0017b ∷ drive 14040 7 0x0817b ∷ drive 14040 0 0x00200 ∷ drive 14040 7 0x00000 ∷ drive 14040 0 0x04200 ∷ drive 14040 7 0x0007c ∷ drive 14095 7 0x0807c ∷ drive 14095 0 0x00200 ∷ drive 14095 7 0x00000 ∷ drive 14095 0 0x04200 ∷ drive 14095 7 0x0017d ∷ drive 14150 7 0x0817d ∷ drive 14150 0 0x00200 ∷ drive 14150 7 0x00000 ∷ drive 14150 0 0x04200 ∷ drive 14150 7 0x0017e ∷ drive 14205 7 0x0817e ∷ drive 14205 0 0x00200 ∷ drive 14205 7 0x00000 ∷ drive 14205 0 0x04200 ∷ drive 14205 7 0x0007f ∷ drive 14260 7 0x0807f ∷ drive 14260 0 0x00200 ∷ drive 14260 7 0x00000 ∷ drive 14260 0 0x04200 ∷ drive 14260 7 0x00080 ∷ drive 14315 7 0x08080 ∷ drive 14315 0 0x00200 ∷ drive 14315 7 0x00000 ∷ drive 14315 0 0x04200 ∷ drive 14315 7 0x00181 ∷ drive 14370 7 0x08181 ∷ drive 14370 0 0x00200 ∷ drive 14370 7 0x00000 ∷ drive 14370 0 0x04200 ∷ drive 14370 7 0x00182 ∷ drive 14425 7 0x08182 ∷ drive 14425 0 0x00200 ∷ drive 14425 7 0x00000 ∷ drive 14425 0 0x04200 ∷ drive 14425 7 0x00083 ∷ drive 14480 7 0x08083 ∷ drive 14480 0 0x00200 ∷ drive 14480 7 0x00000 ∷ drive 14480 0 0x04200 ∷ drive 14480 7 0x00184 ∷ drive 14535 7 0x08184 ∷ drive 14535 0 0x00200 ∷ drive 14535 7 0x00000 ∷ drive 14535 0 0x04200 ∷ drive 14535 7 0x00085 ∷ drive 14590 7 0x08085 ∷ drive 14590 0 0x00200 ∷ drive 14590 7 0x00000 ∷ drive 14590 0 0x04200 ∷ drive 14590 7 0x00086 ∷ drive 14645 7 0x08086 ∷ drive 14645 0 0x00200 ∷ drive 14645 7 0x00000 ∷ drive 14645 0 0x04200 ∷ drive 14645 7 0x00187 ∷ drive 14700 7 0x08187 ∷ drive 14700 0 0x00200 ∷ drive 14700 7 0x00000 ∷ drive 14700 0 0x04200 ∷ drive 14700 7 0x00188 ∷ drive 14755 7 0x08188 ∷ drive 14755 0 0x00200 ∷ drive 14755 7 0x00000 ∷ drive 14755 0 0x04200 ∷ drive 14755 7 0x00089 ∷ drive 14810 7 0x08089 ∷ drive 14810 0 0x00200 ∷ drive 14810 7 0x00000 ∷ drive 14810 0 0x04200 ∷ drive 14810 7 0x0008a ∷ drive 14865 7 0x0808a ∷ drive 14865 0 0x00200 ∷ drive 14865 7 0x00000 ∷ drive 14865 0 0x04200 ∷ drive 14865 7 0x0018b ∷ drive 14920 7 0x0818b ∷ drive 14920 0 0x00200 ∷ drive 14920 7 0x00000 ∷ drive 14920 0 0x04200 ∷ drive 14920 7 0x0008c ∷ drive 14975 7 0x0808c ∷ drive 14975 0 0x00200 ∷ drive 14975 7 0x00000 ∷ drive 14975 0 0x04200 ∷ drive 14975 7 0x0018d ∷ drive 15030 7 0x0818d ∷ drive 15030 0 0x00200 ∷ drive 15030 7 0x00000 ∷ drive 15030 0 0x04200 ∷ drive 15030 7 0x0018e ∷ drive 15085 7 0x0818e ∷ drive 15085 0 0x00200 ∷ drive 15085 7 0x00000 ∷ drive 15085 0 0x04200 ∷ drive 15085 7 0x0008f ∷ drive 15140 7 0x0808f ∷ drive 15140 0 0x00200 ∷ drive 15140 7 0x00000 ∷ drive 15140 0 0x04200 ∷ drive 15140 7 0x00190 ∷ drive 15195 7 0x08190 ∷ drive 15195 0 0x00200 ∷ drive 15195 7 0x00000 ∷ drive 15195 0 0x04200 ∷ drive 15195 7 0x00091 ∷ drive 15250 7 0x08091 ∷ drive 15250 0 0x00200 ∷ drive 15250 7 0x00000 ∷ drive 15250 0 0x04200 ∷ drive 15250 7 0x00092 ∷ drive 15305 7 0x08092 ∷ drive 15305 0 0x00200 ∷ drive 15305 7 0x00000 ∷ drive 15305 0 0x04200 ∷ drive 15305 7 0x00193 ∷ drive 15360 7 0x08193 ∷ drive 15360 0 0x00200 ∷ drive 15360 7 0x00000 ∷ drive 15360 0 0x04200 ∷ drive 15360 7 0x00094 ∷ drive 15415 7 0x08094 ∷ drive 15415 0 0x00200 ∷ drive 15415 7 0x00000 ∷ drive 15415 0 0x04200 ∷ drive 15415 7 0x00195 ∷ drive 15470 7 0x08195 ∷ drive 15470 0 0x00200 ∷ drive 15470 7 0x00000 ∷ drive 15470 0 0x04200 ∷ drive 15470 7 0x00196 ∷ drive 15525 7 0x08196 ∷ drive 15525 0 0x00200 ∷ drive 15525 7 0x00000 ∷ drive 15525 0 0x04200 ∷ drive 15525 7 0x00097 ∷ drive 15580 7 0x08097 ∷ drive 15580 0 0x00200 ∷ drive 15580 7 0x00000 ∷ drive 15580 0 0x04200 ∷ drive 15580 7 0x00098 ∷ drive 15635 7 0x08098 ∷ drive 15635 0 0x00200 ∷ drive 15635 7 0x00000 ∷ drive 15635 0 0x04200 ∷ drive 15635 7 0x00199 ∷ drive 15690 7 0x08199 ∷ drive 15690 0 0x00200 ∷ drive 15690 7 0x00000 ∷ drive 15690 0 0x04200 ∷ drive 15690 7 0x0019a ∷ drive 15745 7 0x0819a ∷ drive 15745 0 0x00200 ∷ drive 15745 7 0x00000 ∷ drive 15745 0 0x04200 ∷ drive 15745 7 0x0009b ∷ drive 15800 7 0x0809b ∷ drive 15800 0 0x00200 ∷ drive 15800 7 0x00000 ∷ drive 15800 0 0x04200 ∷ drive 15800 7 0x0019c ∷ drive 15855 7 0x0819c ∷ drive 15855 0 0x00200 ∷ drive 15855 7 0x00000 ∷ drive 15855 0 0x04200 ∷ drive 15855 7 0x0009d ∷ drive 15910 7 0x0809d ∷ drive 15910 0 0x00200 ∷ drive 15910 7 0x00000 ∷ drive 15910 0 0x04200 ∷ drive 15910 7 0x0009e ∷ drive 15965 7 0x0809e ∷ drive 15965 0 0x00200 ∷ drive 15965 7 0x00000 ∷ drive 15965 0 0x04200 ∷ drive 15965 7 0x0019f ∷ drive 16020 7 0x0819f ∷ drive 16020 0 0x00200 ∷ drive 16020 7 0x00000 ∷ drive 16020 0 0x04200 ∷ drive 16020 7 0x001a0 ∷ drive 16075 7 0x081a0 ∷ drive 16075 0 0x00200 ∷ drive 16075 7 0x00000 ∷ drive 16075 0 0x04200 ∷ drive 16075 7 0x000a1 ∷ drive 16130 7 0x080a1 ∷ drive 16130 0 0x00200 ∷ drive 16130 7 0x00000 ∷ drive 16130 0 0x04200 ∷ drive 16130 7 0x000a2 ∷ drive 16185 7 0x080a2 ∷ drive 16185 0 0x00200 ∷ drive 16185 7 0x00000 ∷ drive 16185 0 0x04200 ∷ drive 16185 7 0x001a3 ∷ drive 16240 7 0x081a3 ∷ drive 16240 0 0x00200 ∷ drive 16240 7 0x00000 ∷ drive 16240 0 0x04200 ∷ drive 16240 7 0x000a4 ∷ drive 16295 7 0x080a4 ∷ drive 16295 0 0x00200 ∷ drive 16295 7 0x00000 ∷ drive 16295 0 0x04200 ∷ drive 16295 7 0x001a5 ∷ drive 16350 7 0x081a5 ∷ drive 16350 0 0x00200 ∷ drive 16350 7 0x00000 ∷ drive 16350 0 0x04200 ∷ drive 16350 7 0x001a6 ∷ drive 16405 7 0x081a6 ∷ drive 16405 0 0x00200 ∷ drive 16405 7 0x00000 ∷ drive 16405 0 0x04200 ∷ drive 16405 7 0x000a7 ∷ drive 16460 7 0x080a7 ∷ drive 16460 0 0x00200 ∷ drive 16460 7 0x00000 ∷ drive 16460 0 0x04200 ∷ drive 16460 7 0x000a8 ∷ drive 16515 7 0x080a8 ∷ drive 16515 0 0x00200 ∷ drive 16515 7 0x00000 ∷ drive 16515 0 0x04200 ∷ drive 16515 7 0x001a9 ∷ drive 16570 7 0x081a9 ∷ drive 16570 0 0x00200 ∷ drive 16570 7 0x00000 ∷ drive 16570 0 0x04200 ∷ drive 16570 7 0x001aa ∷ drive 16625 7 0x081aa ∷ drive 16625 0 0x00200 ∷ drive 16625 7 0x00000 ∷ drive 16625 0 0x04200 ∷ drive 16625 7 0x000ab ∷ drive 16680 7 0x080ab ∷ drive 16680 0 0x00200 ∷ drive 16680 7 0x00000 ∷ drive 16680 0 0x04200 ∷ drive 16680 7 0x001ac ∷ drive 16735 7 0x081ac ∷ drive 16735 0 0x00200 ∷ drive 16735 7 0x00000 ∷ drive 16735 0 0x04200 ∷ drive 16735 7 0x000ad ∷ drive 16790 7 0x080ad ∷ drive 16790 0 0x00200 ∷ drive 16790 7 0x00000 ∷ drive 16790 0 0x04200 ∷ drive 16790 7 0x000ae ∷ drive 16845 7 0x080ae ∷ drive 16845 0 0x00200 ∷ drive 16845 7 0x00000 ∷ drive 16845 0 0x04200 ∷ drive 16845 7 0x001af ∷ drive 16900 7 0x081af ∷ drive 16900 0 0x00200 ∷ drive 16900 7 0x00000 ∷ drive 16900 0 0x04200 ∷ drive 16900 7 0x000b0 ∷ drive 16955 7 0x080b0 ∷ drive 16955 0 0x00200 ∷ drive 16955 7 0x00000 ∷ drive 16955 0 0x04200 ∷ drive 16955 7 0x001b1 ∷ drive 17010 7 0x081b1 ∷ drive 17010 0 0x00200 ∷ drive 17010 7 0x00000 ∷ drive 17010 0 0x04200 ∷ drive 17010 7 0x001b2 ∷ drive 17065 7 0x081b2 ∷ drive 17065 0 0x00200 ∷ drive 17065 7 0x00000 ∷ drive 17065 0 0x04200 ∷ drive 17065 7 0x000b3 ∷ drive 17120 7 0x080b3 ∷ drive 17120 0 0x00200 ∷ drive 17120 7 0x00000 ∷ drive 17120 0 0x04200 ∷ drive 17120 7 0x001b4 ∷ drive 17175 7 0x081b4 ∷ drive 17175 0 0x00200 ∷ drive 17175 7 0x00000 ∷ drive 17175 0 0x04200 ∷ drive 17175 7 0x000b5 ∷ drive 17230 7 0x080b5 ∷ drive 17230 0 0x00200 ∷ drive 17230 7 0x00000 ∷ drive 17230 0 0x04200 ∷ drive 17230 7 0x000b6 ∷ drive 17285 7 0x080b6 ∷ drive 17285 0 0x00200 ∷ drive 17285 7 0x00000 ∷ drive 17285 0 0x04200 ∷ drive 17285 7 0x001b7 ∷ drive 17340 7 0x081b7 ∷ drive 17340 0 0x00200 ∷ drive 17340 7 0x00000 ∷ drive 17340 0 0x04200 ∷ drive 17340 7 0x001b8 ∷ drive 17395 7 0x081b8 ∷ drive 17395 0 0x00200 ∷ drive 17395 7 0x00000 ∷ drive 17395 0 0x04200 ∷ drive 17395 7 0x000b9 ∷ drive 17450 7 0x080b9 ∷ drive 17450 0 0x00200 ∷ drive 17450 7 0x00000 ∷ drive 17450 0 0x04200 ∷ drive 17450 7 0x000ba ∷ drive 17505 7 0x080ba ∷ drive 17505 0 0x00200 ∷ drive 17505 7 0x00000 ∷ drive 17505 0 0x04200 ∷ drive 17505 7 0x001bb ∷ drive 17560 7 0x081bb ∷ drive 17560 0 0x00200 ∷ drive 17560 7 0x00000 ∷ drive 17560 0 0x04200 ∷ drive 17560 7 0x000bc ∷ drive 17615 7 0x080bc ∷ drive 17615 0 0x00200 ∷ drive 17615 7 0x00000 ∷ drive 17615 0 0x04200 ∷ drive 17615 7 0x001bd ∷ drive 17670 7 0x081bd ∷ drive 17670 0 0x00200 ∷ drive 17670 7 0x00000 ∷ drive 17670 0 0x04200 ∷ drive 17670 7 0x001be ∷ drive 17725 7 0x081be ∷ drive 17725 0 0x00200 ∷ drive 17725 7 0x00000 ∷ drive 17725 0 0x04200 ∷ drive 17725 7 0x000bf ∷ drive 17780 7 0x080bf ∷ drive 17780 0 0x00200 ∷ drive 17780 7 0x00000 ∷ drive 17780 0 0x04200 ∷ drive 17780 7 0x001c0 ∷ drive 17835 7 0x081c0 ∷ drive 17835 0 0x00200 ∷ drive 17835 7 0x00000 ∷ drive 17835 0 0x04200 ∷ drive 17835 7 0x000c1 ∷ drive 17890 7 0x080c1 ∷ drive 17890 0 0x00200 ∷ drive 17890 7 0x00000 ∷ drive 17890 0 0x04200 ∷ drive 17890 7 0x000c2 ∷ drive 17945 7 0x080c2 ∷ drive 17945 0 0x00200 ∷ drive 17945 7 0x00000 ∷ drive 17945 0 0x04200 ∷ drive 17945 7 0x001c3 ∷ drive 18000 7 0x081c3 ∷ drive 18000 0 0x00200 ∷ drive 18000 7 0x00000 ∷ drive 18000 0 0x04200 ∷ drive 18000 7 0x000c4 ∷ drive 18055 7 0x080c4 ∷ drive 18055 0 0x00200 ∷ drive 18055 7 0x00000 ∷ drive 18055 0 0x04200 ∷ drive 18055 7 0x001c5 ∷ drive 18110 7 0x081c5 ∷ drive 18110 0 0x00200 ∷ drive 18110 7 0x00000 ∷ drive 18110 0 0x04200 ∷ drive 18110 7 0x001c6 ∷ drive 18165 7 0x081c6 ∷ drive 18165 0 0x00200 ∷ drive 18165 7 0x00000 ∷ drive 18165 0 0x04200 ∷ drive 18165 7 0x000c7 ∷ drive 18220 7 0x080c7 ∷ drive 18220 0 0x00200 ∷ drive 18220 7 0x00000 ∷ drive 18220 0 0x04200 ∷ drive 18220 7 0x000c8 ∷ drive 18275 7 0x080c8 ∷ drive 18275 0 0x00200 ∷ drive 18275 7 0x00000 ∷ drive 18275 0 0x04200 ∷ drive 18275 7 0x001c9 ∷ drive 18330 7 0x081c9 ∷ drive 18330 0 0x00200 ∷ drive 18330 7 0x00000 ∷ drive 18330 0 0x04200 ∷ drive 18330 7 0x001ca ∷ drive 18385 7 0x081ca ∷ drive 18385 0 0x00200 ∷ drive 18385 7 0x00000 ∷ drive 18385 0 0x04200 ∷ drive 18385 7 0x000cb ∷ drive 18440 7 0x080cb ∷ drive 18440 0 0x00200 ∷ drive 18440 7 0x00000 ∷ drive 18440 0 0x04200 ∷ drive 18440 7 0x001cc ∷ drive 18495 7 0x081cc ∷ drive 18495 0 0x00200 ∷ drive 18495 7 0x00000 ∷ drive 18495 0 0x04200 ∷ drive 18495 7 0x000cd ∷ drive 18550 7 0x080cd ∷ drive 18550 0 0x00200 ∷ drive 18550 7 0x00000 ∷ drive 18550 0 0x04200 ∷ drive 18550 7 0x000ce ∷ drive 18605 7 0x080ce ∷ drive 18605 0 0x00200 ∷ drive 18605 7 0x00000 ∷ drive 18605 0 0x04200 ∷ drive 18605 7 0x001cf ∷ drive 18660 7 0x081cf ∷ drive 18660 0 0x00200 ∷ drive 18660 7 0x00000 ∷ drive 18660 0 0x04200 ∷ drive 18660 7 0x000d0 ∷ drive 18715 7 0x080d0 ∷ drive 18715 0 0x00200 ∷ drive 18715 7 0x00000 ∷ drive 18715 0 0x04200 ∷ drive 18715 7 0x001d1 ∷ drive 18770 7 0x081d1 ∷ drive 18770 0 0x00200 ∷ drive 18770 7 0x00000 ∷ drive 18770 0 0x04200 ∷ drive 18770 7 0x001d2 ∷ drive 18825 7 0x081d2 ∷ drive 18825 0 0x00200 ∷ drive 18825 7 0x00000 ∷ drive 18825 0 0x04200 ∷ drive 18825 7 0x000d3 ∷ drive 18880 7 0x080d3 ∷ drive 18880 0 0x00200 ∷ drive 18880 7 0x00000 ∷ drive 18880 0 0x04200 ∷ drive 18880 7 0x001d4 ∷ drive 18935 7 0x081d4 ∷ drive 18935 0 0x00200 ∷ drive 18935 7 0x00000 ∷ drive 18935 0 0x04200 ∷ drive 18935 7 0x000d5 ∷ drive 18990 7 0x080d5 ∷ drive 18990 0 0x00200 ∷ drive 18990 7 0x00000 ∷ drive 18990 0 0x04200 ∷ drive 18990 7 0x000d6 ∷ drive 19045 7 0x080d6 ∷ drive 19045 0 0x00200 ∷ drive 19045 7 0x00000 ∷ drive 19045 0 0x04200 ∷ drive 19045 7 0x001d7 ∷ drive 19100 7 0x081d7 ∷ drive 19100 0 0x00200 ∷ drive 19100 7 0x00000 ∷ drive 19100 0 0x04200 ∷ drive 19100 7 0x001d8 ∷ drive 19155 7 0x081d8 ∷ drive 19155 0 0x00200 ∷ drive 19155 7 0x00000 ∷ drive 19155 0 0x04200 ∷ drive 19155 7 0x000d9 ∷ drive 19210 7 0x080d9 ∷ drive 19210 0 0x00200 ∷ drive 19210 7 0x00000 ∷ drive 19210 0 0x04200 ∷ drive 19210 7 0x000da ∷ drive 19265 7 0x080da ∷ drive 19265 0 0x00200 ∷ drive 19265 7 0x00000 ∷ drive 19265 0 0x04200 ∷ drive 19265 7 0x001db ∷ drive 19320 7 0x081db ∷ drive 19320 0 0x00200 ∷ drive 19320 7 0x00000 ∷ drive 19320 0 0x04200 ∷ drive 19320 7 0x000dc ∷ drive 19375 7 0x080dc ∷ drive 19375 0 0x00200 ∷ drive 19375 7 0x00000 ∷ drive 19375 0 0x04200 ∷ drive 19375 7 0x001dd ∷ drive 19430 7 0x081dd ∷ drive 19430 0 0x00200 ∷ drive 19430 7 0x00000 ∷ drive 19430 0 0x04200 ∷ drive 19430 7 0x001de ∷ drive 19485 7 0x081de ∷ drive 19485 0 0x00200 ∷ drive 19485 7 0x00000 ∷ drive 19485 0 0x04200 ∷ drive 19485 7 0x000df ∷ drive 19540 7 0x080df ∷ drive 19540 0 0x00200 ∷ drive 19540 7 0x00000 ∷ drive 19540 0 0x04200 ∷ drive 19540 7 0x000e0 ∷ drive 19595 7 0x080e0 ∷ drive 19595 0 0x00200 ∷ drive 19595 7 0x00000 ∷ drive 19595 0 0x04200 ∷ drive 19595 7 0x001e1 ∷ drive 19650 7 0x081e1 ∷ drive 19650 0 0x00200 ∷ drive 19650 7 0x00000 ∷ drive 19650 0 0x04200 ∷ drive 19650 7 0x001e2 ∷ drive 19705 7 0x081e2 ∷ drive 19705 0 0x00200 ∷ drive 19705 7 0x00000 ∷ drive 19705 0 0x04200 ∷ drive 19705 7 0x000e3 ∷ drive 19760 7 0x080e3 ∷ drive 19760 0 0x00200 ∷ drive 19760 7 0x00000 ∷ drive 19760 0 0x04200 ∷ drive 19760 7 0x001e4 ∷ drive 19815 7 0x081e4 ∷ drive 19815 0 0x00200 ∷ drive 19815 7 0x00000 ∷ drive 19815 0 0x04200 ∷ drive 19815 7 0x000e5 ∷ drive 19870 7 0x080e5 ∷ drive 19870 0 0x00200 ∷ drive 19870 7 0x00000 ∷ drive 19870 0 0x04200 ∷ drive 19870 7 0x000e6 ∷ drive 19925 7 0x080e6 ∷ drive 19925 0 0x00200 ∷ drive 19925 7 0x00000 ∷ drive 19925 0 0x04200 ∷ drive 19925 7 0x001e7 ∷ drive 19980 7 0x081e7 ∷ drive 19980 0 0x00200 ∷ drive 19980 7 0x00000 ∷ drive 19980 0 0x04200 ∷ drive 19980 7 0x001e8 ∷ drive 20035 7 0x081e8 ∷ drive 20035 0 0x00200 ∷ drive 20035 7 0x00000 ∷ drive 20035 0 0x04200 ∷ drive 20035 7 0x000e9 ∷ drive 20090 7 0x080e9 ∷ drive 20090 0 0x00200 ∷ drive 20090 7 0x00000 ∷ drive 20090 0 0x04200 ∷ drive 20090 7 0x000ea ∷ drive 20145 7 0x080ea ∷ drive 20145 0 0x00200 ∷ drive 20145 7 0x00000 ∷ drive 20145 0 0x04200 ∷ drive 20145 7 0x001eb ∷ drive 20200 7 0x081eb ∷ drive 20200 0 0x00200 ∷ drive 20200 7 0x00000 ∷ drive 20200 0 0x04200 ∷ drive 20200 7 0x000ec ∷ drive 20255 7 0x080ec ∷ drive 20255 0 0x00200 ∷ drive 20255 7 0x00000 ∷ drive 20255 0 0x04200 ∷ drive 20255 7 0x001ed ∷ drive 20310 7 0x081ed ∷ drive 20310 0 0x00200 ∷ drive 20310 7 0x00000 ∷ drive 20310 0 0x04200 ∷ drive 20310 7 0x001ee ∷ drive 20365 7 0x081ee ∷ drive 20365 0 0x00200 ∷ drive 20365 7 0x00000 ∷ drive 20365 0 0x04200 ∷ drive 20365 7 0x000ef ∷ drive 20420 7 0x080ef ∷ drive 20420 0 0x00200 ∷ drive 20420 7 0x00000 ∷ drive 20420 0 0x04200 ∷ drive 20420 7 0x001f0 ∷ drive 20475 7 0x081f0 ∷ drive 20475 0 0x00200 ∷ drive 20475 7 0x00000 ∷ drive 20475 0 0x04200 ∷ drive 20475 7 0x000f1 ∷ drive 20530 7 0x080f1 ∷ drive 20530 0 0x00200 ∷ drive 20530 7 0x00000 ∷ drive 20530 0 0x04200 ∷ drive 20530 7 0x000f2 ∷ drive 20585 7 0x080f2 ∷ drive 20585 0 0x00200 ∷ drive 20585 7 0x00000 ∷ drive 20585 0 0x04200 ∷ drive 20585 7 0x001f3 ∷ drive 20640 7 0x081f3 ∷ drive 20640 0 0x00200 ∷ drive 20640 7 0x00000 ∷ drive 20640 0 0x04200 ∷ drive 20640 7 0x000f4 ∷ drive 20695 7 0x080f4 ∷ drive 20695 0 0x00200 ∷ drive 20695 7 0x00000 ∷ drive 20695 0 0x04200 ∷ drive 20695 7 0x001f5 ∷ drive 20750 7 0x081f5 ∷ drive 20750 0 0x00200 ∷ drive 20750 7 0x00000 ∷ drive 20750 0 0x04200 ∷ drive 20750 7 0x001f6 ∷ drive 20805 7 0x081f6 ∷ drive 20805 0 0x00200 ∷ drive 20805 7 0x00000 ∷ drive 20805 0 0x04200 ∷ drive 20805 7 0x000f7 ∷ drive 20860 7 0x080f7 ∷ drive 20860 0 0x00200 ∷ drive 20860 7 0x00000 ∷ drive 20860 0 0x04200 ∷ drive 20860 7 0x000f8 ∷ drive 20915 7 0x080f8 ∷ drive 20915 0 0x00200 ∷ drive 20915 7 0x00000 ∷ drive 20915 0 0x04200 ∷ drive 20915 7 0x001f9 ∷ drive 20970 7 0x081f9 ∷ drive 20970 0 0x00200 ∷ drive 20970 7 0x00000 ∷ drive 20970 0 0x04200 ∷ drive 20970 7 0x001fa ∷ drive 21025 7 0x081fa ∷ drive 21025 0 0x00200 ∷ drive 21025 7 0x00000 ∷ drive 21025 0 0x04200 ∷ drive 21025 7 0x000fb ∷ drive 21080 7 0x080fb ∷ drive 21080 0 0x00200 ∷ drive 21080 7 0x00000 ∷ drive 21080 0 0x04200 ∷ drive 21080 7 0x001fc ∷ drive 21135 7 0x081fc ∷ drive 21135 0 0x00200 ∷ drive 21135 7 0x00000 ∷ drive 21135 0 0x04200 ∷ drive 21135 7 0x000fd ∷ drive 21190 7 0x080fd ∷ drive 21190 0 0x00200 ∷ drive 21190 7 0x00000 ∷ drive 21190 0 0x04200 ∷ drive 21190 7 0x000fe ∷ drive 21245 7 0x080fe ∷ drive 21245 0 0x00200 ∷ drive 21245 7 0x00000 ∷ drive 21245 0 0x04200 ∷ drive 21245 7 0x001ff ∷ drive 21300 7 0x081ff ∷ drive 21300 0 0x00200 ∷ drive 21300 7 0x00000 ∷ drive 21300 0 0x04200 ∷ drive 21300 7 0x00100 ∷ drive 21355 7 0x08100 ∷ drive 21355 0 0x00200 ∷ drive 21355 7 0x00000 ∷ drive 21355 0 0x04200 ∷ drive 21355 7 0x00001 ∷ drive 21410 7 0x08001 ∷ drive 21410 0 0x00200 ∷ drive 21410 7 0x00000 ∷ drive 21410 0 0x04200 ∷ drive 21410 7 0x00002 ∷ drive 21465 7 0x08002 ∷ drive 21465 0 0x00200 ∷ drive 21465 7 0x00000 ∷ drive 21465 0 0x04200 ∷ drive 21465 7 0x00103 ∷ drive 21520 7 0x08103 ∷ drive 21520 0 0x00200 ∷ drive 21520 7 0x00000 ∷ drive 21520 0 0x04200 ∷ drive 21520 7 0x00004 ∷ drive 21575 7 0x08004 ∷ drive 21575 0 0x00200 ∷ drive 21575 7 0x00000 ∷ drive 21575 0 0x04200 ∷ drive 21575 7 0x00105 ∷ drive 21630 7 0x08105 ∷ drive 21630 0 0x00200 ∷ drive 21630 7 0x00000 ∷ drive 21630 0 0x04200 ∷ drive 21630 7 0x00106 ∷ drive 21685 7 0x08106 ∷ drive 21685 0 0x00200 ∷ drive 21685 7 0x00000 ∷ drive 21685 0 0x04200 ∷ drive 21685 7 0x00007 ∷ drive 21740 7 0x08007 ∷ drive 21740 0 0x00200 ∷ drive 21740 7 0x00000 ∷ drive 21740 0 0x04200 ∷ drive 21740 7 0x00008 ∷ drive 21795 7 0x08008 ∷ drive 21795 0 0x00200 ∷ drive 21795 7 0x00000 ∷ drive 21795 0 0x04200 ∷ drive 21795 7 0x00109 ∷ drive 21850 7 0x08109 ∷ drive 21850 0 0x00200 ∷ drive 21850 7 0x00000 ∷ drive 21850 0 0x04200 ∷ drive 21850 7 0x0010a ∷ drive 21905 7 0x0810a ∷ drive 21905 0 0x00200 ∷ drive 21905 7 0x00000 ∷ drive 21905 0 0x04200 ∷ drive 21905 7 0x0000b ∷ drive 21960 7 0x0800b ∷ drive 21960 0 0x00200 ∷ drive 21960 7 0x00000 ∷ drive 21960 0 0x04200 ∷ drive 21960 7 0x0010c ∷ drive 22015 7 0x0810c ∷ drive 22015 0 0x00200 ∷ drive 22015 7 0x00000 ∷ drive 22015 0 0x04200 ∷ drive 22015 7 0x0000d ∷ drive 22070 7 0x0800d ∷ drive 22070 0 0x00200 ∷ drive 22070 7 0x00000 ∷ drive 22070 0 0x04200 ∷ drive 22070 7 0x0000e ∷ drive 22125 7 0x0800e ∷ drive 22125 0 0x00200 ∷ drive 22125 7 0x00000 ∷ drive 22125 0 0x04200 ∷ drive 22125 7 0x0010f ∷ drive 22180 7 0x0810f ∷ drive 22180 0 0x00200 ∷ drive 22180 7 0x00000 ∷ drive 22180 0 0x04200 ∷ drive 22180 7 0x00010 ∷ drive 22235 7 0x08010 ∷ drive 22235 0 0x00200 ∷ drive 22235 7 0x00000 ∷ drive 22235 0 0x04200 ∷ drive 22235 7 0x00111 ∷ drive 22290 7 0x08111 ∷ drive 22290 0 0x00200 ∷ drive 22290 7 0x00000 ∷ drive 22290 0 0x04200 ∷ drive 22290 7 0x00112 ∷ drive 22345 7 0x08112 ∷ drive 22345 0 0x00200 ∷ drive 22345 7 0x00000 ∷ drive 22345 0 0x04200 ∷ drive 22345 7 0x00013 ∷ drive 22400 7 0x08013 ∷ drive 22400 0 0x00200 ∷ drive 22400 7 0x00000 ∷ drive 22400 0 0x04200 ∷ drive 22400 7 0x00114 ∷ drive 22455 7 0x08114 ∷ drive 22455 0 0x00200 ∷ drive 22455 7 0x00000 ∷ drive 22455 0 0x04200 ∷ drive 22455 7 0x00015 ∷ drive 22510 7 0x08015 ∷ drive 22510 0 0x00200 ∷ drive 22510 7 0x00000 ∷ drive 22510 0 0x04200 ∷ drive 22510 7 0x00016 ∷ drive 22565 7 0x08016 ∷ drive 22565 0 0x00200 ∷ drive 22565 7 0x00000 ∷ drive 22565 0 0x04200 ∷ drive 22565 7 0x00117 ∷ drive 22620 7 0x08117 ∷ drive 22620 0 0x00200 ∷ drive 22620 7 0x00000 ∷ drive 22620 0 0x04200 ∷ drive 22620 7 0x00118 ∷ drive 22675 7 0x08118 ∷ drive 22675 0 0x00200 ∷ drive 22675 7 0x00000 ∷ drive 22675 0 0x04200 ∷ drive 22675 7 0x00019 ∷ drive 22730 7 0x08019 ∷ drive 22730 0 0x00200 ∷ drive 22730 7 0x00000 ∷ drive 22730 0 0x04200 ∷ drive 22730 7 0x0001a ∷ drive 22785 7 0x0801a ∷ drive 22785 0 0x00200 ∷ drive 22785 7 0x00000 ∷ drive 22785 0 0x04200 ∷ drive 22785 7 0x0011b ∷ drive 22840 7 0x0811b ∷ drive 22840 0 0x00200 ∷ drive 22840 7 0x00000 ∷ drive 22840 0 0x04200 ∷ drive 22840 7 0x0001c ∷ drive 22895 7 0x0801c ∷ drive 22895 0 0x00200 ∷ drive 22895 7 0x00000 ∷ drive 22895 0 0x04200 ∷ drive 22895 7 0x0011d ∷ drive 22950 7 0x0811d ∷ drive 22950 0 0x00200 ∷ drive 22950 7 0x00000 ∷ drive 22950 0 0x04200 ∷ drive 22950 7 0x0011e ∷ drive 23005 7 0x0811e ∷ drive 23005 0 0x00200 ∷ drive 23005 7 0x00000 ∷ drive 23005 0 0x04200 ∷ drive 23005 7 0x0001f ∷ drive 23060 7 0x0801f ∷ drive 23060 0 0x00200 ∷ drive 23060 7 0x00000 ∷ drive 23060 0 0x04200 ∷ drive 23060 7 0x00020 ∷ drive 23115 7 0x08020 ∷ drive 23115 0 0x00200 ∷ drive 23115 7 0x00000 ∷ drive 23115 0 0x04200 ∷ drive 23115 7 0x00121 ∷ drive 23170 7 0x08121 ∷ drive 23170 0 0x00200 ∷ drive 23170 7 0x00000 ∷ drive 23170 0 0x04200 ∷ drive 23170 7 0x00122 ∷ drive 23225 7 0x08122 ∷ drive 23225 0 0x00200 ∷ drive 23225 7 0x00000 ∷ drive 23225 0 0x04200 ∷ drive 23225 7 0x00023 ∷ drive 23280 7 0x08023 ∷ drive 23280 0 0x00200 ∷ drive 23280 7 0x00000 ∷ drive 23280 0 0x04200 ∷ drive 23280 7 0x00124 ∷ drive 23335 7 0x08124 ∷ drive 23335 0 0x00200 ∷ drive 23335 7 0x00000 ∷ drive 23335 0 0x04200 ∷ drive 23335 7 0x00025 ∷ drive 23390 7 0x08025 ∷ drive 23390 0 0x00200 ∷ drive 23390 7 0x00000 ∷ drive 23390 0 0x04200 ∷ drive 23390 7 0x00026 ∷ drive 23445 7 0x08026 ∷ drive 23445 0 0x00200 ∷ drive 23445 7 0x00000 ∷ drive 23445 0 0x04200 ∷ drive 23445 7 0x00127 ∷ drive 23500 7 0x08127 ∷ drive 23500 0 0x00200 ∷ drive 23500 7 0x00000 ∷ drive 23500 0 0x04200 ∷ drive 23500 7 0x00128 ∷ drive 23555 7 0x08128 ∷ drive 23555 0 0x00200 ∷ drive 23555 7 0x00000 ∷ drive 23555 0 0x04200 ∷ drive 23555 7 0x00029 ∷ drive 23610 7 0x08029 ∷ drive 23610 0 0x00200 ∷ drive 23610 7 0x00000 ∷ drive 23610 0 0x04200 ∷ drive 23610 7 0x0002a ∷ drive 23665 7 0x0802a ∷ drive 23665 0 0x00200 ∷ drive 23665 7 0x00000 ∷ drive 23665 0 0x04200 ∷ drive 23665 7 0x0012b ∷ drive 23720 7 0x0812b ∷ drive 23720 0 0x00200 ∷ drive 23720 7 0x00000 ∷ drive 23720 0 0x04200 ∷ drive 23720 7 0x0002c ∷ drive 23775 7 0x0802c ∷ drive 23775 0 0x00200 ∷ drive 23775 7 0x00000 ∷ drive 23775 0 0x04200 ∷ drive 23775 7 0x0012d ∷ drive 23830 7 0x0812d ∷ drive 23830 0 0x00200 ∷ drive 23830 7 0x00000 ∷ drive 23830 0 0x04200 ∷ drive 23830 7 0x0012e ∷ drive 23885 7 0x0812e ∷ drive 23885 0 0x00200 ∷ drive 23885 7 0x00000 ∷ drive 23885 0 0x04200 ∷ drive 23885 7 0x0002f ∷ drive 23940 7 0x0802f ∷ drive 23940 0 0x00200 ∷ drive 23940 7 0x00000 ∷ drive 23940 0 0x04200 ∷ drive 23940 7 0x00130 ∷ drive 23995 7 0x08130 ∷ drive 23995 0 0x00200 ∷ drive 23995 7 0x00000 ∷ drive 23995 0 0x04200 ∷ drive 23995 7 0x00031 ∷ drive 24050 7 0x08031 ∷ drive 24050 0 0x00200 ∷ drive 24050 7 0x00000 ∷ drive 24050 0 0x04200 ∷ drive 24050 7 0x00032 ∷ drive 24105 7 0x08032 ∷ drive 24105 0 0x00200 ∷ drive 24105 7 0x00000 ∷ drive 24105 0 0x04200 ∷ drive 24105 7 0x00133 ∷ drive 24160 7 0x08133 ∷ drive 24160 0 0x00200 ∷ drive 24160 7 0x00000 ∷ drive 24160 0 0x04200 ∷ drive 24160 7 0x00034 ∷ drive 24215 7 0x08034 ∷ drive 24215 0 0x00200 ∷ drive 24215 7 0x00000 ∷ drive 24215 0 0x04200 ∷ drive 24215 7 0x00135 ∷ drive 24270 7 0x08135 ∷ drive 24270 0 0x00200 ∷ drive 24270 7 0x00000 ∷ drive 24270 0 0x04200 ∷ drive 24270 7 0x00136 ∷ drive 24325 7 0x08136 ∷ drive 24325 0 0x00200 ∷ drive 24325 7 0x00000 ∷ drive 24325 0 0x04200 ∷ drive 24325 7 0x00037 ∷ drive 24380 7 0x08037 ∷ drive 24380 0 0x00200 ∷ drive 24380 7 0x00000 ∷ drive 24380 0 0x04200 ∷ drive 24380 7 0x00038 ∷ drive 24435 7 0x08038 ∷ drive 24435 0 0x00200 ∷ drive 24435 7 0x00000 ∷ drive 24435 0 0x04200 ∷ drive 24435 7 0x00139 ∷ drive 24490 7 0x08139 ∷ drive 24490 0 0x00200 ∷ drive 24490 7 0x00000 ∷ drive 24490 0 0x04200 ∷ drive 24490 7 0x0013a ∷ drive 24545 7 0x0813a ∷ drive 24545 0 0x00200 ∷ drive 24545 7 0x00000 ∷ drive 24545 0 0x04200 ∷ drive 24545 7 0x0003b ∷ drive 24600 7 0x0803b ∷ drive 24600 0 0x00200 ∷ drive 24600 7 0x00000 ∷ drive 24600 0 0x04200 ∷ drive 24600 7 0x0013c ∷ drive 24655 7 0x0813c ∷ drive 24655 0 0x00200 ∷ drive 24655 7 0x00000 ∷ drive 24655 0 0x04200 ∷ drive 24655 7 0x0003d ∷ drive 24710 7 0x0803d ∷ drive 24710 0 0x00200 ∷ drive 24710 7 0x00000 ∷ drive 24710 0 0x04200 ∷ drive 24710 7 0x0003e ∷ drive 24765 7 0x0803e ∷ drive 24765 0 0x00200 ∷ drive 24765 7 0x00000 ∷ drive 24765 0 0x04200 ∷ drive 24765 7 0x0013f ∷ drive 24820 7 0x0813f ∷ drive 24820 0 0x00200 ∷ drive 24820 7 0x00000 ∷ drive 24820 0 0x04200 ∷ drive 24820 7 0x00040 ∷ drive 24875 7 0x08040 ∷ drive 24875 0 0x00200 ∷ drive 24875 7 0x00000 ∷ drive 24875 0 0x04200 ∷ drive 24875 7 0x00141 ∷ drive 24930 7 0x08141 ∷ drive 24930 0 0x00200 ∷ drive 24930 7 0x00000 ∷ drive 24930 0 0x04200 ∷ drive 24930 7 0x00142 ∷ drive 24985 7 0x08142 ∷ drive 24985 0 0x00200 ∷ drive 24985 7 0x00000 ∷ drive 24985 0 0x04200 ∷ drive 24985 7 0x00043 ∷ drive 25040 7 0x08043 ∷ drive 25040 0 0x00200 ∷ drive 25040 7 0x00000 ∷ drive 25040 0 0x04200 ∷ drive 25040 7 0x00144 ∷ drive 25095 7 0x08144 ∷ drive 25095 0 0x00200 ∷ drive 25095 7 0x00000 ∷ drive 25095 0 0x04200 ∷ drive 25095 7 0x00045 ∷ drive 25150 7 0x08045 ∷ drive 25150 0 0x00200 ∷ drive 25150 7 0x00000 ∷ drive 25150 0 0x04200 ∷ drive 25150 7 0x00046 ∷ drive 25205 7 0x08046 ∷ drive 25205 0 0x00200 ∷ drive 25205 7 0x00000 ∷ drive 25205 0 0x04200 ∷ drive 25205 7 0x00147 ∷ drive 25260 7 0x08147 ∷ drive 25260 0 0x00200 ∷ drive 25260 7 0x00000 ∷ drive 25260 0 0x04200 ∷ drive 25260 7 0x00148 ∷ drive 25315 7 0x08148 ∷ drive 25315 0 0x00200 ∷ drive 25315 7 0x00000 ∷ drive 25315 0 0x04200 ∷ drive 25315 7 0x00049 ∷ drive 25370 7 0x08049 ∷ drive 25370 0 0x00200 ∷ drive 25370 7 0x00000 ∷ drive 25370 0 0x04200 ∷ drive 25370 7 0x0004a ∷ drive 25425 7 0x0804a ∷ drive 25425 0 0x00200 ∷ drive 25425 7 0x00000 ∷ drive 25425 0 0x04200 ∷ drive 25425 7 0x0014b ∷ drive 25480 7 0x0814b ∷ drive 25480 0 0x00200 ∷ drive 25480 7 0x00000 ∷ drive 25480 0 0x04200 ∷ drive 25480 7 0x0004c ∷ drive 25535 7 0x0804c ∷ drive 25535 0 0x00200 ∷ drive 25535 7 0x00000 ∷ drive 25535 0 0x04200 ∷ drive 25535 7 0x0014d ∷ drive 25590 7 0x0814d ∷ drive 25590 0 0x00200 ∷ drive 25590 7 0x00000 ∷ drive 25590 0 0x04200 ∷ drive 25590 7 0x0014e ∷ drive 25645 7 0x0814e ∷ drive 25645 0 0x00200 ∷ drive 25645 7 0x00000 ∷ drive 25645 0 0x04200 ∷ drive 25645 7 0x0004f ∷ drive 25700 7 0x0804f ∷ drive 25700 0 0x00200 ∷ drive 25700 7 0x00000 ∷ drive 25700 0 0x04200 ∷ drive 25700 7 0x00150 ∷ drive 25755 7 0x08150 ∷ drive 25755 0 0x00200 ∷ drive 25755 7 0x00000 ∷ drive 25755 0 0x04200 ∷ drive 25755 7 0x00051 ∷ drive 25810 7 0x08051 ∷ drive 25810 0 0x00200 ∷ drive 25810 7 0x00000 ∷ drive 25810 0 0x04200 ∷ drive 25810 7 0x00052 ∷ drive 25865 7 0x08052 ∷ drive 25865 0 0x00200 ∷ drive 25865 7 0x00000 ∷ drive 25865 0 0x04200 ∷ drive 25865 7 0x00153 ∷ drive 25920 7 0x08153 ∷ drive 25920 0 0x00200 ∷ drive 25920 7 0x00000 ∷ drive 25920 0 0x04200 ∷ drive 25920 7 0x00054 ∷ drive 25975 7 0x08054 ∷ drive 25975 0 0x00200 ∷ drive 25975 7 0x00000 ∷ drive 25975 0 0x04200 ∷ drive 25975 7 0x00155 ∷ drive 26030 7 0x08155 ∷ drive 26030 0 0x00200 ∷ drive 26030 7 0x00000 ∷ drive 26030 0 0x04200 ∷ drive 26030 7 0x00156 ∷ drive 26085 7 0x08156 ∷ drive 26085 0 0x00200 ∷ drive 26085 7 0x00000 ∷ drive 26085 0 0x04200 ∷ drive 26085 7 0x00057 ∷ drive 26140 7 0x08057 ∷ drive 26140 0 0x00200 ∷ drive 26140 7 0x00000 ∷ drive 26140 0 0x04200 ∷ drive 26140 7 0x00058 ∷ drive 26195 7 0x08058 ∷ drive 26195 0 0x00200 ∷ drive 26195 7 0x00000 ∷ drive 26195 0 0x04200 ∷ drive 26195 7 0x00159 ∷ drive 26250 7 0x08159 ∷ drive 26250 0 0x00200 ∷ drive 26250 7 0x00000 ∷ drive 26250 0 0x04200 ∷ drive 26250 7 0x0015a ∷ drive 26305 7 0x0815a ∷ drive 26305 0 0x00200 ∷ drive 26305 7 0x00000 ∷ drive 26305 0 0x04200 ∷ drive 26305 7 0x0005b ∷ drive 26360 7 0x0805b ∷ drive 26360 0 0x00200 ∷ drive 26360 7 0x00000 ∷ drive 26360 0 0x04200 ∷ drive 26360 7 0x0015c ∷ drive 26415 7 0x0815c ∷ drive 26415 0 0x00200 ∷ drive 26415 7 0x00000 ∷ drive 26415 0 0x04200 ∷ drive 26415 7 0x0005d ∷ drive 26470 7 0x0805d ∷ drive 26470 0 0x00200 ∷ drive 26470 7 0x00000 ∷ drive 26470 0 0x04200 ∷ drive 26470 7 0x0005e ∷ drive 26525 7 0x0805e ∷ drive 26525 0 0x00200 ∷ drive 26525 7 0x00000 ∷ drive 26525 0 0x04200 ∷ drive 26525 7 0x0015f ∷ drive 26580 7 0x0815f ∷ drive 26580 0 0x00200 ∷ drive 26580 7 0x00000 ∷ drive 26580 0 0x04200 ∷ drive 26580 7 0x00160 ∷ drive 26635 7 0x08160 ∷ drive 26635 0 0x00200 ∷ drive 26635 7 0x00000 ∷ drive 26635 0 0x04200 ∷ drive 26635 7 0x00061 ∷ drive 26690 7 0x08061 ∷ drive 26690 0 0x00200 ∷ drive 26690 7 0x00000 ∷ drive 26690 0 0x04200 ∷ drive 26690 7 0x00062 ∷ drive 26745 7 0x08062 ∷ drive 26745 0 0x00200 ∷ drive 26745 7 0x00000 ∷ drive 26745 0 0x04200 ∷ drive 26745 7 0x00163 ∷ drive 26800 7 0x08163 ∷ drive 26800 0 0x00200 ∷ drive 26800 7 0x00000 ∷ drive 26800 0 0x04200 ∷ drive 26800 7 0x00064 ∷ drive 26855 7 0x08064 ∷ drive 26855 0 0x00200 ∷ drive 26855 7 0x00000 ∷ drive 26855 0 0x04200 ∷ drive 26855 7 0x00165 ∷ drive 26910 7 0x08165 ∷ drive 26910 0 0x00200 ∷ drive 26910 7 0x00000 ∷ drive 26910 0 0x04200 ∷ drive 26910 7 0x00166 ∷ drive 26965 7 0x08166 ∷ drive 26965 0 0x00200 ∷ drive 26965 7 0x00000 ∷ drive 26965 0 0x04200 ∷ drive 26965 7 0x00067 ∷ drive 27020 7 0x08067 ∷ drive 27020 0 0x00200 ∷ drive 27020 7 0x00000 ∷ drive 27020 0 0x04200 ∷ drive 27020 7 0x00068 ∷ drive 27075 7 0x08068 ∷ drive 27075 0 0x00200 ∷ drive 27075 7 0x00000 ∷ drive 27075 0 0x04200 ∷ drive 27075 7 0x00169 ∷ drive 27130 7 0x08169 ∷ drive 27130 0 0x00200 ∷ drive 27130 7 0x00000 ∷ drive 27130 0 0x04200 ∷ drive 27130 7 0x0016a ∷ drive 27185 7 0x0816a ∷ drive 27185 0 0x00200 ∷ drive 27185 7 0x00000 ∷ drive 27185 0 0x04200 ∷ drive 27185 7 0x0006b ∷ drive 27240 7 0x0806b ∷ drive 27240 0 0x00200 ∷ drive 27240 7 0x00000 ∷ drive 27240 0 0x04200 ∷ drive 27240 7 0x0016c ∷ drive 27295 7 0x0816c ∷ drive 27295 0 0x00200 ∷ drive 27295 7 0x00000 ∷ drive 27295 0 0x04200 ∷ drive 27295 7 0x0006d ∷ drive 27350 7 0x0806d ∷ drive 27350 0 0x00200 ∷ drive 27350 7 0x00000 ∷ drive 27350 0 0x04200 ∷ drive 27350 7 0x0006e ∷ drive 27405 7 0x0806e ∷ drive 27405 0 0x00200 ∷ drive 27405 7 0x00000 ∷ drive 27405 0 0x04200 ∷ drive 27405 7 0x0016f ∷ drive 27460 7 0x0816f ∷ drive 27460 0 0x00200 ∷ drive 27460 7 0x00000 ∷ drive 27460 0 0x04200 ∷ drive 27460 7 0x00070 ∷ drive 27515 7 0x08070 ∷ drive 27515 0 0x00200 ∷ drive 27515 7 0x00000 ∷ drive 27515 0 0x04200 ∷ drive 27515 7 0x00171 ∷ drive 27570 7 0x08171 ∷ drive 27570 0 0x00200 ∷ drive 27570 7 0x00000 ∷ drive 27570 0 0x04200 ∷ drive 27570 7 0x00172 ∷ drive 27625 7 0x08172 ∷ drive 27625 0 0x00200 ∷ drive 27625 7 0x00000 ∷ drive 27625 0 0x04200 ∷ drive 27625 7 0x00073 ∷ drive 27680 7 0x08073 ∷ drive 27680 0 0x00200 ∷ drive 27680 7 0x00000 ∷ drive 27680 0 0x04200 ∷ drive 27680 7 0x00174 ∷ drive 27735 7 0x08174 ∷ drive 27735 0 0x00200 ∷ drive 27735 7 0x00000 ∷ drive 27735 0 0x04200 ∷ drive 27735 7 0x00075 ∷ drive 27790 7 0x08075 ∷ drive 27790 0 0x00200 ∷ drive 27790 7 0x00000 ∷ drive 27790 0 0x04200 ∷ drive 27790 7 0x00076 ∷ drive 27845 7 0x08076 ∷ drive 27845 0 0x00200 ∷ drive 27845 7 0x00000 ∷ drive 27845 0 0x04200 ∷ drive 27845 7 0x00177 ∷ drive 27900 7 0x08177 ∷ drive 27900 0 0x00200 ∷ drive 27900 7 0x00000 ∷ drive 27900 0 0x04200 ∷ drive 27900 7 0x00178 ∷ drive 27955 7 0x08178 ∷ drive 27955 0 0x00200 ∷ drive 27955 7 0x00000 ∷ drive 27955 0 0x04200 ∷ drive 27955 7 0x00079 ∷ drive 28010 7 0x08079 ∷ drive 28010 0 0x00200 ∷ drive 28010 7 0x00000 ∷ drive 28010 0 0x04200 ∷ drive 28010 7 0x0007a ∷ drive 28065 7 0x0807a ∷ drive 28065 0 0x00200 ∷ drive 28065 7 0x00000 ∷ drive 28065 0 0x04200 ∷ drive 28065 7 0x0017b ∷ drive 28120 7 0x0817b ∷ drive 28120 0 0x00200 ∷ drive 28120 7 0x00000 ∷ drive 28120 0 0x04200 ∷ drive 28120 7 0x0007c ∷ drive 28175 7 0x0807c ∷ drive 28175 0 0x00200 ∷ drive 28175 7 0x00000 ∷ drive 28175 0 0x04200 ∷ drive 28175 7 0x0017d ∷ drive 28230 7 0x0817d ∷ drive 28230 0 0x00200 ∷ drive 28230 7 0x00000 ∷ drive 28230 0 0x04200 ∷ drive 28230 7 0x0017e ∷ drive 28285 7 0x0817e ∷ drive 28285 0 0x00200 ∷ drive 28285 7 0x00000 ∷ drive 28285 0 0x04200 ∷ drive 28285 7 0x0007f ∷ drive 28340 7 0x0807f ∷ drive 28340 0 0x00200 ∷ drive 28340 7 0x00000 ∷ drive 28340 0 0x04200 ∷ drive 28340 7 0x00080 ∷ drive 28395 7 0x08080 ∷ drive 28395 0 0x00200 ∷ drive 28395 7 0x00000 ∷ drive 28395 0 0x04200 ∷ drive 28395 7 0x00181 ∷ drive 28450 7 0x08181 ∷ drive 28450 0 0x00200 ∷ drive 28450 7 0x00000 ∷ drive 28450 0 0x04200 ∷ drive 28450 7 0x00182 ∷ drive 28505 7 0x08182 ∷ drive 28505 0 0x00200 ∷ drive 28505 7 0x00000 ∷ drive 28505 0 0x04200 ∷ drive 28505 7 0x00083 ∷ drive 28560 7 0x08083 ∷ drive 28560 0 0x00200 ∷ drive 28560 7 0x00000 ∷ drive 28560 0 0x04200 ∷ drive 28560 7 0x00184 ∷ drive 28615 7 0x08184 ∷ drive 28615 0 0x00200 ∷ drive 28615 7 0x00000 ∷ drive 28615 0 0x04200 ∷ drive 28615 7 0x00085 ∷ drive 28670 7 0x08085 ∷ drive 28670 0 0x00200 ∷ drive 28670 7 0x00000 ∷ drive 28670 0 0x04200 ∷ drive 28670 7 0x00086 ∷ drive 28725 7 0x08086 ∷ drive 28725 0 0x00200 ∷ drive 28725 7 0x00000 ∷ drive 28725 0 0x04200 ∷ drive 28725 7 0x00187 ∷ drive 28780 7 0x08187 ∷ drive 28780 0 0x00200 ∷ drive 28780 7 0x00000 ∷ drive 28780 0 0x04200 ∷ drive 28780 7 0x00188 ∷ drive 28835 7 0x08188 ∷ drive 28835 0 0x00200 ∷ drive 28835 7 0x00000 ∷ drive 28835 0 0x04200 ∷ drive 28835 7 0x00089 ∷ drive 28890 7 0x08089 ∷ drive 28890 0 0x00200 ∷ drive 28890 7 0x00000 ∷ drive 28890 0 0x04200 ∷ drive 28890 7 0x0008a ∷ drive 28945 7 0x0808a ∷ drive 28945 0 0x00200 ∷ drive 28945 7 0x00000 ∷ drive 28945 0 0x04200 ∷ drive 28945 7 0x0018b ∷ drive 29000 7 0x0818b ∷ drive 29000 0 0x00200 ∷ drive 29000 7 0x00000 ∷ drive 29000 0 0x04200 ∷ drive 29000 7 0x0008c ∷ drive 29055 7 0x0808c ∷ drive 29055 0 0x00200 ∷ drive 29055 7 0x00000 ∷ drive 29055 0 0x04200 ∷ drive 29055 7 0x0018d ∷ drive 29110 7 0x0818d ∷ drive 29110 0 0x00200 ∷ drive 29110 7 0x00000 ∷ drive 29110 0 0x04200 ∷ drive 29110 7 0x0018e ∷ drive 29165 7 0x0818e ∷ drive 29165 0 0x00200 ∷ drive 29165 7 0x00000 ∷ drive 29165 0 0x04200 ∷ drive 29165 7 0x0008f ∷ drive 29220 7 0x0808f ∷ drive 29220 0 0x00200 ∷ drive 29220 7 0x00000 ∷ drive 29220 0 0x04200 ∷ drive 29220 7 0x00190 ∷ drive 29275 7 0x08190 ∷ drive 29275 0 0x00200 ∷ drive 29275 7 0x00000 ∷ drive 29275 0 0x04200 ∷ drive 29275 7 0x00091 ∷ drive 29330 7 0x08091 ∷ drive 29330 0 0x00200 ∷ drive 29330 7 0x00000 ∷ drive 29330 0 0x04200 ∷ drive 29330 7 0x00092 ∷ drive 29385 7 0x08092 ∷ drive 29385 0 0x00200 ∷ drive 29385 7 0x00000 ∷ drive 29385 0 0x04200 ∷ drive 29385 7 0x00193 ∷ drive 29440 7 0x08193 ∷ drive 29440 0 0x00200 ∷ drive 29440 7 0x00000 ∷ drive 29440 0 0x04200 ∷ drive 29440 7 0x00094 ∷ drive 29495 7 0x08094 ∷ drive 29495 0 0x00200 ∷ drive 29495 7 0x00000 ∷ drive 29495 0 0x04200 ∷ drive 29495 7 0x00195 ∷ drive 29550 7 0x08195 ∷ drive 29550 0 0x00200 ∷ drive 29550 7 0x00000 ∷ drive 29550 0 0x04200 ∷ drive 29550 7 0x00196 ∷ drive 29605 7 0x08196 ∷ drive 29605 0 0x00200 ∷ drive 29605 7 0x00000 ∷ drive 29605 0 0x04200 ∷ drive 29605 7 0x00097 ∷ drive 29660 7 0x08097 ∷ drive 29660 0 0x00200 ∷ drive 29660 7 0x00000 ∷ drive 29660 0 0x04200 ∷ drive 29660 7 0x00098 ∷ drive 29715 7 0x08098 ∷ drive 29715 0 0x00200 ∷ drive 29715 7 0x00000 ∷ drive 29715 0 0x04200 ∷ drive 29715 7 0x00199 ∷ drive 29770 7 0x08199 ∷ drive 29770 0 0x00200 ∷ drive 29770 7 0x00000 ∷ drive 29770 0 0x04200 ∷ drive 29770 7 0x0019a ∷ drive 29825 7 0x0819a ∷ drive 29825 0 0x00200 ∷ drive 29825 7 0x00000 ∷ drive 29825 0 0x04200 ∷ drive 29825 7 0x0009b ∷ drive 29880 7 0x0809b ∷ drive 29880 0 0x00200 ∷ drive 29880 7 0x00000 ∷ drive 29880 0 0x04200 ∷ drive 29880 7 0x0019c ∷ drive 29935 7 0x0819c ∷ drive 29935 0 0x00200 ∷ drive 29935 7 0x00000 ∷ drive 29935 0 0x04200 ∷ drive 29935 7 0x0009d ∷ drive 29990 7 0x0809d ∷ drive 29990 0 0x00200 ∷ drive 29990 7 0x00000 ∷ drive 29990 0 0x04200 ∷ drive 29990 7 0x0009e ∷ drive 30045 7 0x0809e ∷ drive 30045 0 0x00200 ∷ drive 30045 7 0x00000 ∷ drive 30045 0 0x04200 ∷ drive 30045 7 0x0019f ∷ drive 30100 7 0x0819f ∷ drive 30100 0 0x00200 ∷ drive 30100 7 0x00000 ∷ drive 30100 0 0x04200 ∷ drive 30100 7 0x001a0 ∷ drive 30155 7 0x081a0 ∷ drive 30155 0 0x00200 ∷ drive 30155 7 0x00000 ∷ drive 30155 0 0x04200 ∷ drive 30155 7 0x000a1 ∷ drive 30210 7 0x080a1 ∷ drive 30210 0 0x00200 ∷ drive 30210 7 0x00000 ∷ drive 30210 0 0x04200 ∷ drive 30210 7 0x000a2 ∷ drive 30265 7 0x080a2 ∷ drive 30265 0 0x00200 ∷ drive 30265 7 0x00000 ∷ drive 30265 0 0x04200 ∷ drive 30265 7 0x001a3 ∷ drive 30320 7 0x081a3 ∷ drive 30320 0 0x00200 ∷ drive 30320 7 0x00000 ∷ drive 30320 0 0x04200 ∷ drive 30320 7 0x000a4 ∷ drive 30375 7 0x080a4 ∷ drive 30375 0 0x00200 ∷ drive 30375 7 0x00000 ∷ drive 30375 0 0x04200 ∷ drive 30375 7 0x001a5 ∷ drive 30430 7 0x081a5 ∷ drive 30430 0 0x00200 ∷ drive 30430 7 0x00000 ∷ drive 30430 0 0x04200 ∷ drive 30430 7 0x001a6 ∷ drive 30485 7 0x081a6 ∷ drive 30485 0 0x00200 ∷ drive 30485 7 0x00000 ∷ drive 30485 0 0x04200 ∷ drive 30485 7 0x000a7 ∷ drive 30540 7 0x080a7 ∷ drive 30540 0 0x00200 ∷ drive 30540 7 0x00000 ∷ drive 30540 0 0x04200 ∷ drive 30540 7 0x000a8 ∷ drive 30595 7 0x080a8 ∷ drive 30595 0 0x00200 ∷ drive 30595 7 0x00000 ∷ drive 30595 0 0x04200 ∷ drive 30595 7 0x001a9 ∷ drive 30650 7 0x081a9 ∷ drive 30650 0 0x00200 ∷ drive 30650 7 0x00000 ∷ drive 30650 0 0x04200 ∷ drive 30650 7 0x001aa ∷ drive 30705 7 0x081aa ∷ drive 30705 0 0x00200 ∷ drive 30705 7 0x00000 ∷ drive 30705 0 0x04200 ∷ drive 30705 7 0x000ab ∷ drive 30760 7 0x080ab ∷ drive 30760 0 0x00200 ∷ drive 30760 7 0x00000 ∷ drive 30760 0 0x04200 ∷ drive 30760 7 0x001ac ∷ drive 30815 7 0x081ac ∷ drive 30815 0 0x00200 ∷ drive 30815 7 0x00000 ∷ drive 30815 0 0x04200 ∷ drive 30815 7 0x000ad ∷ drive 30870 7 0x080ad ∷ drive 30870 0 0x00200 ∷ drive 30870 7 0x00000 ∷ drive 30870 0 0x04200 ∷ drive 30870 7 0x000ae ∷ drive 30925 7 0x080ae ∷ drive 30925 0 0x00200 ∷ drive 30925 7 0x00000 ∷ drive 30925 0 0x04200 ∷ drive 30925 7 0x001af ∷ drive 30980 7 0x081af ∷ drive 30980 0 0x00200 ∷ drive 30980 7 0x00000 ∷ drive 30980 0 0x04200 ∷ drive 30980 7 0x000b0 ∷ drive 31035 7 0x080b0 ∷ drive 31035 0 0x00200 ∷ drive 31035 7 0x00000 ∷ drive 31035 0 0x04200 ∷ drive 31035 7 0x001b1 ∷ drive 31090 7 0x081b1 ∷ drive 31090 0 0x00200 ∷ drive 31090 7 0x00000 ∷ drive 31090 0 0x04200 ∷ drive 31090 7 0x001b2 ∷ drive 31145 7 0x081b2 ∷ drive 31145 0 0x00200 ∷ drive 31145 7 0x00000 ∷ drive 31145 0 0x04200 ∷ drive 31145 7 0x000b3 ∷ drive 31200 7 0x080b3 ∷ drive 31200 0 0x00200 ∷ drive 31200 7 0x00000 ∷ drive 31200 0 0x04200 ∷ drive 31200 7 0x001b4 ∷ drive 31255 7 0x081b4 ∷ drive 31255 0 0x00200 ∷ drive 31255 7 0x00000 ∷ drive 31255 0 0x04200 ∷ drive 31255 7 0x000b5 ∷ drive 31310 7 0x080b5 ∷ drive 31310 0 0x00200 ∷ drive 31310 7 0x00000 ∷ drive 31310 0 0x04200 ∷ drive 31310 7 0x000b6 ∷ drive 31365 7 0x080b6 ∷ drive 31365 0 0x00200 ∷ drive 31365 7 0x00000 ∷ drive 31365 0 0x04200 ∷ drive 31365 7 0x001b7 ∷ drive 31420 7 0x081b7 ∷ drive 31420 0 0x00200 ∷ drive 31420 7 0x00000 ∷ drive 31420 0 0x04200 ∷ drive 31420 7 0x001b8 ∷ drive 31475 7 0x081b8 ∷ drive 31475 0 0x00200 ∷ drive 31475 7 0x00000 ∷ drive 31475 0 0x04200 ∷ drive 31475 7 0x000b9 ∷ drive 31530 7 0x080b9 ∷ drive 31530 0 0x00200 ∷ drive 31530 7 0x00000 ∷ drive 31530 0 0x04200 ∷ drive 31530 7 0x000ba ∷ drive 31585 7 0x080ba ∷ drive 31585 0 0x00200 ∷ drive 31585 7 0x00000 ∷ drive 31585 0 0x04200 ∷ drive 31585 7 0x001bb ∷ drive 31640 7 0x081bb ∷ drive 31640 0 0x00200 ∷ drive 31640 7 0x00000 ∷ drive 31640 0 0x04200 ∷ drive 31640 7 0x000bc ∷ drive 31695 7 0x080bc ∷ drive 31695 0 0x00200 ∷ drive 31695 7 0x00000 ∷ drive 31695 0 0x04200 ∷ drive 31695 7 0x001bd ∷ drive 31750 7 0x081bd ∷ drive 31750 0 0x00200 ∷ drive 31750 7 0x00000 ∷ drive 31750 0 0x04200 ∷ drive 31750 7 0x001be ∷ drive 31805 7 0x081be ∷ drive 31805 0 0x00200 ∷ drive 31805 7 0x00000 ∷ drive 31805 0 0x04200 ∷ drive 31805 7 0x000bf ∷ drive 31860 7 0x080bf ∷ drive 31860 0 0x00200 ∷ drive 31860 7 0x00000 ∷ drive 31860 0 0x04200 ∷ drive 31860 7 0x001c0 ∷ drive 31915 7 0x081c0 ∷ drive 31915 0 0x00200 ∷ drive 31915 7 0x00000 ∷ drive 31915 0 0x04200 ∷ drive 31915 7 0x000c1 ∷ drive 31970 7 0x080c1 ∷ drive 31970 0 0x00200 ∷ drive 31970 7 0x00000 ∷ drive 31970 0 0x04200 ∷ drive 31970 7 0x000c2 ∷ drive 32025 7 0x080c2 ∷ drive 32025 0 0x00200 ∷ drive 32025 7 0x00000 ∷ drive 32025 0 0x04200 ∷ drive 32025 7 0x001c3 ∷ drive 32080 7 0x081c3 ∷ drive 32080 0 0x00200 ∷ drive 32080 7 0x00000 ∷ drive 32080 0 0x04200 ∷ drive 32080 7 0x000c4 ∷ drive 32135 7 0x080c4 ∷ drive 32135 0 0x00200 ∷ drive 32135 7 0x00000 ∷ drive 32135 0 0x04200 ∷ drive 32135 7 0x001c5 ∷ drive 32190 7 0x081c5 ∷ drive 32190 0 0x00200 ∷ drive 32190 7 0x00000 ∷ drive 32190 0 0x04200 ∷ drive 32190 7 0x001c6 ∷ drive 32245 7 0x081c6 ∷ drive 32245 0 0x00200 ∷ drive 32245 7 0x00000 ∷ drive 32245 0 0x04200 ∷ drive 32245 7 0x000c7 ∷ drive 32300 7 0x080c7 ∷ drive 32300 0 0x00200 ∷ drive 32300 7 0x00000 ∷ drive 32300 0 0x04200 ∷ drive 32300 7 0x000c8 ∷ drive 32355 7 0x080c8 ∷ drive 32355 0 0x00200 ∷ drive 32355 7 0x00000 ∷ drive 32355 0 0x04200 ∷ drive 32355 7 0x001c9 ∷ drive 32410 7 0x081c9 ∷ drive 32410 0 0x00200 ∷ drive 32410 7 0x00000 ∷ drive 32410 0 0x04200 ∷ drive 32410 7 0x001ca ∷ drive 32465 7 0x081ca ∷ drive 32465 0 0x00200 ∷ drive 32465 7 0x00000 ∷ drive 32465 0 0x04200 ∷ drive 32465 7 0x000cb ∷ drive 32520 7 0x080cb ∷ drive 32520 0 0x00200 ∷ drive 32520 7 0x00000 ∷ drive 32520 0 0x04200 ∷ drive 32520 7 0x001cc ∷ drive 32575 7 0x081cc ∷ drive 32575 0 0x00200 ∷ drive 32575 7 0x00000 ∷ drive 32575 0 0x04200 ∷ drive 32575 7 0x000cd ∷ drive 32630 7 0x080cd ∷ drive 32630 0 0x00200 ∷ drive 32630 7 0x00000 ∷ drive 32630 0 0x04200 ∷ drive 32630 7 0x000ce ∷ drive 32685 7 0x080ce ∷ drive 32685 0 0x00200 ∷ drive 32685 7 0x00000 ∷ drive 32685 0 0x04200 ∷ drive 32685 7 0x001cf ∷ drive 32740 7 0x081cf ∷ drive 32740 0 0x00200 ∷ drive 32740 7 0x00000 ∷ drive 32740 0 0x04200 ∷ drive 32740 7 0x000d0 ∷ drive 32795 7 0x080d0 ∷ drive 32795 0 0x00200 ∷ drive 32795 7 0x00000 ∷ drive 32795 0 0x04200 ∷ drive 32795 7 0x001d1 ∷ drive 32850 7 0x081d1 ∷ drive 32850 0 0x00200 ∷ drive 32850 7 0x00000 ∷ drive 32850 0 0x04200 ∷ drive 32850 7 0x001d2 ∷ drive 32905 7 0x081d2 ∷ drive 32905 0 0x00200 ∷ drive 32905 7 0x00000 ∷ drive 32905 0 0x04200 ∷ drive 32905 7 0x000d3 ∷ drive 32960 7 0x080d3 ∷ drive 32960 0 0x00200 ∷ drive 32960 7 0x00000 ∷ drive 32960 0 0x04200 ∷ drive 32960 7 0x001d4 ∷ drive 33015 7 0x081d4 ∷ drive 33015 0 0x00200 ∷ drive 33015 7 0x00000 ∷ drive 33015 0 0x04200 ∷ drive 33015 7 0x000d5 ∷ drive 33070 7 0x080d5 ∷ drive 33070 0 0x00200 ∷ drive 33070 7 0x00000 ∷ drive 33070 0 0x04200 ∷ drive 33070 7 0x000d6 ∷ drive 33125 7 0x080d6 ∷ drive 33125 0 0x00200 ∷ drive 33125 7 0x00000 ∷ drive 33125 0 0x04200 ∷ drive 33125 7 0x001d7 ∷ drive 33180 7 0x081d7 ∷ drive 33180 0 0x00200 ∷ drive 33180 7 0x00000 ∷ drive 33180 0 0x04200 ∷ drive 33180 7 0x001d8 ∷ drive 33235 7 0x081d8 ∷ drive 33235 0 0x00200 ∷ drive 33235 7 0x00000 ∷ drive 33235 0 0x04200 ∷ drive 33235 7 0x000d9 ∷ drive 33290 7 0x080d9 ∷ drive 33290 0 0x00200 ∷ drive 33290 7 0x00000 ∷ drive 33290 0 0x04200 ∷ drive 33290 7 0x000da ∷ drive 33345 7 0x080da ∷ drive 33345 0 0x00200 ∷ drive 33345 7 0x00000 ∷ drive 33345 0 0x04200 ∷ drive 33345 7 0x001db ∷ drive 33400 7 0x081db ∷ drive 33400 0 0x00200 ∷ drive 33400 7 0x00000 ∷ drive 33400 0 0x04200 ∷ drive 33400 7 0x000dc ∷ drive 33455 7 0x080dc ∷ drive 33455 0 0x00200 ∷ drive 33455 7 0x00000 ∷ drive 33455 0 0x04200 ∷ drive 33455 7 0x001dd ∷ drive 33510 7 0x081dd ∷ drive 33510 0 0x00200 ∷ drive 33510 7 0x00000 ∷ drive 33510 0 0x04200 ∷ drive 33510 7 0x001de ∷ drive 33565 7 0x081de ∷ drive 33565 0 0x00200 ∷ drive 33565 7 0x00000 ∷ drive 33565 0 0x04200 ∷ drive 33565 7 0x000df ∷ drive 33620 7 0x080df ∷ drive 33620 0 0x00200 ∷ drive 33620 7 0x00000 ∷ drive 33620 0 0x04200 ∷ drive 33620 7 0x000e0 ∷ drive 33675 7 0x080e0 ∷ drive 33675 0 0x00200 ∷ drive 33675 7 0x00000 ∷ drive 33675 0 0x04200 ∷ drive 33675 7 0x001e1 ∷ drive 33730 7 0x081e1 ∷ drive 33730 0 0x00200 ∷ drive 33730 7 0x00000 ∷ drive 33730 0 0x04200 ∷ drive 33730 7 0x001e2 ∷ drive 33785 7 0x081e2 ∷ drive 33785 0 0x00200 ∷ drive 33785 7 0x00000 ∷ drive 33785 0 0x04200 ∷ drive 33785 7 0x000e3 ∷ drive 33840 7 0x080e3 ∷ drive 33840 0 0x00200 ∷ drive 33840 7 0x00000 ∷ drive 33840 0 0x04200 ∷ drive 33840 7 0x001e4 ∷ drive 33895 7 0x081e4 ∷ drive 33895 0 0x00200 ∷ drive 33895 7 0x00000 ∷ drive 33895 0 0x04200 ∷ drive 33895 7 0x000e5 ∷ drive 33950 7 0x080e5 ∷ drive 33950 0 0x00200 ∷ drive 33950 7 0x00000 ∷ drive 33950 0 0x04200 ∷ drive 33950 7 0x000e6 ∷ drive 34005 7 0x080e6 ∷ drive 34005 0 0x00200 ∷ drive 34005 7 0x00000 ∷ drive 34005 0 0x04200 ∷ drive 34005 7 0x001e7 ∷ drive 34060 7 0x081e7 ∷ drive 34060 0 0x00200 ∷ drive 34060 7 0x00000 ∷ drive 34060 0 0x04200 ∷ drive 34060 7 0x001e8 ∷ drive 34115 7 0x081e8 ∷ drive 34115 0 0x00200 ∷ drive 34115 7 0x00000 ∷ drive 34115 0 0x04200 ∷ drive 34115 7 0x000e9 ∷ drive 34170 7 0x080e9 ∷ drive 34170 0 0x00200 ∷ drive 34170 7 0x00000 ∷ drive 34170 0 0x04200 ∷ drive 34170 7 0x000ea ∷ drive 34225 7 0x080ea ∷ drive 34225 0 0x00200 ∷ drive 34225 7 0x00000 ∷ drive 34225 0 0x04200 ∷ drive 34225 7 0x001eb ∷ drive 34280 7 0x081eb ∷ drive 34280 0 0x00200 ∷ drive 34280 7 0x00000 ∷ drive 34280 0 0x04200 ∷ drive 34280 7 0x000ec ∷ drive 34335 7 0x080ec ∷ drive 34335 0 0x00200 ∷ drive 34335 7 0x00000 ∷ drive 34335 0 0x04200 ∷ drive 34335 7 0x001ed ∷ drive 34390 7 0x081ed ∷ drive 34390 0 0x00200 ∷ drive 34390 7 0x00000 ∷ drive 34390 0 0x04200 ∷ drive 34390 7 0x001ee ∷ drive 34445 7 0x081ee ∷ drive 34445 0 0x00200 ∷ drive 34445 7 0x00000 ∷ drive 34445 0 0x04200 ∷ drive 34445 7 0x000ef ∷ drive 34500 7 0x080ef ∷ drive 34500 0 0x00200 ∷ drive 34500 7 0x00000 ∷ drive 34500 0 0x04200 ∷ drive 34500 7 0x001f0 ∷ drive 34555 7 0x081f0 ∷ drive 34555 0 0x00200 ∷ drive 34555 7 0x00000 ∷ drive 34555 0 0x04200 ∷ drive 34555 7 0x000f1 ∷ drive 34610 7 0x080f1 ∷ drive 34610 0 0x00200 ∷ drive 34610 7 0x00000 ∷ drive 34610 0 0x04200 ∷ drive 34610 7 0x000f2 ∷ drive 34665 7 0x080f2 ∷ drive 34665 0 0x00200 ∷ drive 34665 7 0x00000 ∷ drive 34665 0 0x04200 ∷ drive 34665 7 0x001f3 ∷ drive 34720 7 0x081f3 ∷ drive 34720 0 0x00200 ∷ drive 34720 7 0x00000 ∷ drive 34720 0 0x04200 ∷ drive 34720 7 0x000f4 ∷ drive 34775 7 0x080f4 ∷ drive 34775 0 0x00200 ∷ drive 34775 7 0x00000 ∷ drive 34775 0 0x04200 ∷ drive 34775 7 0x001f5 ∷ drive 34830 7 0x081f5 ∷ drive 34830 0 0x00200 ∷ drive 34830 7 0x00000 ∷ drive 34830 0 0x04200 ∷ drive 34830 7 0x001f6 ∷ drive 34885 7 0x081f6 ∷ drive 34885 0 0x00200 ∷ drive 34885 7 0x00000 ∷ drive 34885 0 0x04200 ∷ drive 34885 7 0x000f7 ∷ drive 34940 7 0x080f7 ∷ drive 34940 0 0x00200 ∷ drive 34940 7 0x00000 ∷ drive 34940 0 0x04200 ∷ drive 34940 7 0x000f8 ∷ drive 34995 7 0x080f8 ∷ drive 34995 0 0x00200 ∷ drive 34995 7 0x00000 ∷ drive 34995 0 0x04200 ∷ drive 34995 7 0x001f9 ∷ drive 35050 7 0x081f9 ∷ drive 35050 0 0x00200 ∷ drive 35050 7 0x00000 ∷ drive 35050 0 0x04200 ∷ drive 35050 7 0x001fa ∷ drive 35105 7 0x081fa ∷ drive 35105 0 0x00200 ∷ drive 35105 7 0x00000 ∷ drive 35105 0 0x04200 ∷ drive 35105 7 0x000fb ∷ drive 35160 7 0x080fb ∷ drive 35160 0 0x00200 ∷ drive 35160 7 0x00000 ∷ drive 35160 0 0x04200 ∷ drive 35160 7 0x001fc ∷ drive 35215 7 0x081fc ∷ drive 35215 0 0x00200 ∷ drive 35215 7 0x00000 ∷ drive 35215 0 0x04200 ∷ drive 35215 7 0x000fd ∷ drive 35270 7 0x080fd ∷ drive 35270 0 0x00200 ∷ drive 35270 7 0x00000 ∷ drive 35270 0 0x04200 ∷ drive 35270 7 0x000fe ∷ drive 35325 7 0x080fe ∷ drive 35325 0 0x00200 ∷ drive 35325 7 0x00000 ∷ drive 35325 0 0x04200 ∷ drive 35325 7 0x001ff ∷ drive 35380 7 0x081ff ∷ drive 35380 0 0x00200 ∷ drive 35380 7 0x00000 ∷ drive 35380 0 0x01a00 ∷ drive 36180 0 0x01b00 ∷ drive 36235 0 0x05b00 ∷ drive 36235 7 0x08000 ∷ drive 36235 0 0x01a00 ∷ drive 36235 7 0x00000 ∷ drive 36235 0 0x03b00 ∷ drive 36635 0 0x07b00 ∷ drive 36635 7 0x08000 ∷ drive 36635 0 0x03a00 ∷ drive 36635 7 0x00000 ∷ drive 36635 0 0x00000 ∷ []

abbrev last_block_written_run_events : List Event
last_block_written_run_events = events.Accept (command 1) ∷ events.Run (command 1) ∷ events.End (command 1) 0 ∷ []

last_block_written_run_told : shown last_block_written_run (story last_block_written_run (reverse last_block_written_run_rows)) (reverse last_block_written_run_events) ≡ record { history = reverse last_block_written_run_events; ends = Some (ended_good ([])) ∷ []; carried = true }
unfolding need_of sent_of ones union_below line_of form_out form_in
last_block_written_run_told = refl

-- ---- mixed_tags_run

abbrev mixed_tags_run : ScenarioValue
mixed_tags_run = record {
  version = 1;
  hosts = record { dev = 7; latency = 0; most = 6; retries = 2; period = 0; offset = 0; lag = 0; offers = true } ∷ [];
  targets = record { dev = 0; latency = 0; retries = 2; disc = policies.Command; pick = picks.First; seek = 1000000; period = 0; offset = 0; begins = false } ∷ [];
  units = record { target = 0; unit = 0; blocks = 1; size = 16; depth = 6 } ∷ [];
  fills = [];
  tapes = [];
  loads = [];
  commands = record { host = 7; target = 0; unit = 0; at = 0; tag = tags.Simple 0; cdb = (0 ∷ 0 ∷ 0 ∷ 0 ∷ 0 ∷ 0 ∷ []); payload = payloads.Nothing } ∷ record { host = 7; target = 0; unit = 0; at = 0; tag = tags.Simple 1; cdb = (0 ∷ 0 ∷ 0 ∷ 0 ∷ 0 ∷ 0 ∷ []); payload = payloads.Nothing } ∷ record { host = 7; target = 0; unit = 0; at = 0; tag = tags.Head 2; cdb = (0 ∷ 0 ∷ 0 ∷ 0 ∷ 0 ∷ 0 ∷ []); payload = payloads.Nothing } ∷ record { host = 7; target = 0; unit = 0; at = 0; tag = tags.Head 3; cdb = (0 ∷ 0 ∷ 0 ∷ 0 ∷ 0 ∷ 0 ∷ []); payload = payloads.Nothing } ∷ record { host = 7; target = 0; unit = 0; at = 0; tag = tags.Simple 4; cdb = (0 ∷ 0 ∷ 0 ∷ 0 ∷ 0 ∷ 0 ∷ []); payload = payloads.Nothing } ∷ record { host = 7; target = 0; unit = 0; at = 0; tag = tags.Ordered 5; cdb = (0 ∷ 0 ∷ 0 ∷ 0 ∷ 0 ∷ 0 ∷ []); payload = payloads.Nothing } ∷ [];
  aborts = [];
  resets = [];
  faults = [];
}

abbrev pub mixed_tags_run_rows : List Row
mixed_tags_run_rows = drive 1200 7 0x00280 ∷ drive 3600 7 0x00680 ∷ drive 4800 7 0x10781 ∷ drive 4890 7 0x10581 ∷ drive 5290 0 0x00200 ∷ drive 5380 7 0x10000 ∷ drive 5380 0 0x02a00 ∷ drive 5780 0 0x06a00 ∷ drive 5780 7 0x101c0 ∷ drive 5835 7 0x181c0 ∷ drive 5835 0 0x02a00 ∷ drive 5835 7 0x10000 ∷ drive 5835 0 0x06a00 ∷ drive 5835 7 0x10020 ∷ drive 5890 7 0x18020 ∷ drive 5890 0 0x02a00 ∷ drive 5890 7 0x10000 ∷ drive 5890 0 0x06a00 ∷ drive 5890 7 0x00100 ∷ drive 5980 7 0x08100 ∷ drive 5980 0 0x02a00 ∷ drive 5980 7 0x00000 ∷ drive 5980 0 0x00a00 ∷ drive 6380 0 0x04a00 ∷ drive 6380 7 0x00100 ∷ drive 6435 7 0x08100 ∷ drive 6435 0 0x00a00 ∷ drive 6435 7 0x00000 ∷ drive 6435 0 0x04a00 ∷ drive 6435 7 0x00100 ∷ drive 6490 7 0x08100 ∷ drive 6490 0 0x00a00 ∷ drive 6490 7 0x00000 ∷ drive 6490 0 0x04a00 ∷ drive 6490 7 0x00100 ∷ drive 6545 7 0x08100 ∷ drive 6545 0 0x00a00 ∷ drive 6545 7 0x00000 ∷ drive 6545 0 0x04a00 ∷ drive 6545 7 0x00100 ∷ drive 6600 7 0x08100 ∷ drive 6600 0 0x00a00 ∷ drive 6600 7 0x00000 ∷ drive 6600 0 0x04a00 ∷ drive 6600 7 0x00100 ∷ drive 6655 7 0x08100 ∷ drive 6655 0 0x00a00 ∷ drive 6655 7 0x00000 ∷ drive 6655 0 0x04a00 ∷ drive 6655 7 0x00100 ∷ drive 6710 7 0x08100 ∷ drive 6710 0 0x00a00 ∷ drive 6710 7 0x00000 ∷ drive 6710 0 0x03a00 ∷ drive 7510 0 0x03a04 ∷ drive 7565 0 0x07a04 ∷ drive 7565 7 0x08000 ∷ drive 7565 0 0x03a00 ∷ drive 7565 7 0x00000 ∷ drive 7565 0 0x00000 ∷ drive 8765 7 0x00280 ∷ drive 11165 7 0x00680 ∷ drive 12365 7 0x10781 ∷ drive 12455 7 0x10581 ∷ drive 12855 0 0x00200 ∷ drive 12945 7 0x10000 ∷ drive 12945 0 0x02a00 ∷ drive 13345 0 0x06a00 ∷ drive 13345 7 0x101c0 ∷ drive 13400 7 0x181c0 ∷ drive 13400 0 0x02a00 ∷ drive 13400 7 0x10000 ∷ drive 13400 0 0x06a00 ∷ drive 13400 7 0x10020 ∷ drive 13455 7 0x18020 ∷ drive 13455 0 0x02a00 ∷ drive 13455 7 0x10000 ∷ drive 13455 0 0x06a00 ∷ drive 13455 7 0x00001 ∷ drive 13545 7 0x08001 ∷ drive 13545 0 0x02a00 ∷ drive 13545 7 0x00000 ∷ drive 13545 0 0x00a00 ∷ drive 13945 0 0x04a00 ∷ drive 13945 7 0x00100 ∷ drive 14000 7 0x08100 ∷ drive 14000 0 0x00a00 ∷ drive 14000 7 0x00000 ∷ drive 14000 0 0x04a00 ∷ drive 14000 7 0x00100 ∷ drive 14055 7 0x08100 ∷ drive 14055 0 0x00a00 ∷ drive 14055 7 0x00000 ∷ drive 14055 0 0x04a00 ∷ drive 14055 7 0x00100 ∷ drive 14110 7 0x08100 ∷ drive 14110 0 0x00a00 ∷ drive 14110 7 0x00000 ∷ drive 14110 0 0x04a00 ∷ drive 14110 7 0x00100 ∷ drive 14165 7 0x08100 ∷ drive 14165 0 0x00a00 ∷ drive 14165 7 0x00000 ∷ drive 14165 0 0x04a00 ∷ drive 14165 7 0x00100 ∷ drive 14220 7 0x08100 ∷ drive 14220 0 0x00a00 ∷ drive 14220 7 0x00000 ∷ drive 14220 0 0x04a00 ∷ drive 14220 7 0x00100 ∷ drive 14275 7 0x08100 ∷ drive 14275 0 0x00a00 ∷ drive 14275 7 0x00000 ∷ drive 14275 0 0x03a00 ∷ drive 15075 0 0x03a04 ∷ drive 15130 0 0x07a04 ∷ drive 15130 7 0x08000 ∷ drive 15130 0 0x03a00 ∷ drive 15130 7 0x00000 ∷ drive 15130 0 0x00000 ∷ drive 16330 7 0x00280 ∷ drive 18730 7 0x00680 ∷ drive 19930 7 0x10781 ∷ drive 20020 7 0x10581 ∷ drive 20420 0 0x00200 ∷ drive 20510 7 0x10000 ∷ drive 20510 0 0x02a00 ∷ drive 20910 0 0x06a00 ∷ drive 20910 7 0x101c0 ∷ drive 20965 7 0x181c0 ∷ drive 20965 0 0x02a00 ∷ drive 20965 7 0x10000 ∷ drive 20965 0 0x06a00 ∷ drive 20965 7 0x10121 ∷ drive 21020 7 0x18121 ∷ drive 21020 0 0x02a00 ∷ drive 21020 7 0x10000 ∷ drive 21020 0 0x06a00 ∷ drive 21020 7 0x00002 ∷ drive 21110 7 0x08002 ∷ drive 21110 0 0x02a00 ∷ drive 21110 7 0x00000 ∷ drive 21110 0 0x00a00 ∷ drive 21510 0 0x04a00 ∷ drive 21510 7 0x00100 ∷ drive 21565 7 0x08100 ∷ drive 21565 0 0x00a00 ∷ drive 21565 7 0x00000 ∷ drive 21565 0 0x04a00 ∷ drive 21565 7 0x00100 ∷ drive 21620 7 0x08100 ∷ drive 21620 0 0x00a00 ∷ drive 21620 7 0x00000 ∷ drive 21620 0 0x04a00 ∷ drive 21620 7 0x00100 ∷ drive 21675 7 0x08100 ∷ drive 21675 0 0x00a00 ∷ drive 21675 7 0x00000 ∷ drive 21675 0 0x04a00 ∷ drive 21675 7 0x00100 ∷ drive 21730 7 0x08100 ∷ drive 21730 0 0x00a00 ∷ drive 21730 7 0x00000 ∷ drive 21730 0 0x04a00 ∷ drive 21730 7 0x00100 ∷ drive 21785 7 0x08100 ∷ drive 21785 0 0x00a00 ∷ drive 21785 7 0x00000 ∷ drive 21785 0 0x04a00 ∷ drive 21785 7 0x00100 ∷ drive 21840 7 0x08100 ∷ drive 21840 0 0x00a00 ∷ drive 21840 7 0x00000 ∷ drive 21840 0 0x03a00 ∷ drive 22640 0 0x03a04 ∷ drive 22695 0 0x07a04 ∷ drive 22695 7 0x08000 ∷ drive 22695 0 0x03a00 ∷ drive 22695 7 0x00000 ∷ drive 22695 0 0x00000 ∷ drive 23895 7 0x00280 ∷ drive 26295 7 0x00680 ∷ drive 27495 7 0x10781 ∷ drive 27585 7 0x10581 ∷ drive 27985 0 0x00200 ∷ drive 28075 7 0x10000 ∷ drive 28075 0 0x02a00 ∷ drive 28475 0 0x06a00 ∷ drive 28475 7 0x101c0 ∷ drive 28530 7 0x181c0 ∷ drive 28530 0 0x02a00 ∷ drive 28530 7 0x10000 ∷ drive 28530 0 0x06a00 ∷ drive 28530 7 0x10121 ∷ drive 28585 7 0x18121 ∷ drive 28585 0 0x02a00 ∷ drive 28585 7 0x10000 ∷ drive 28585 0 0x06a00 ∷ drive 28585 7 0x00103 ∷ drive 28675 7 0x08103 ∷ drive 28675 0 0x02a00 ∷ drive 28675 7 0x00000 ∷ drive 28675 0 0x00a00 ∷ drive 29075 0 0x04a00 ∷ drive 29075 7 0x00100 ∷ drive 29130 7 0x08100 ∷ drive 29130 0 0x00a00 ∷ drive 29130 7 0x00000 ∷ drive 29130 0 0x04a00 ∷ drive 29130 7 0x00100 ∷ drive 29185 7 0x08100 ∷ drive 29185 0 0x00a00 ∷ drive 29185 7 0x00000 ∷ drive 29185 0 0x04a00 ∷ drive 29185 7 0x00100 ∷ drive 29240 7 0x08100 ∷ drive 29240 0 0x00a00 ∷ drive 29240 7 0x00000 ∷ drive 29240 0 0x04a00 ∷ drive 29240 7 0x00100 ∷ drive 29295 7 0x08100 ∷ drive 29295 0 0x00a00 ∷ drive 29295 7 0x00000 ∷ drive 29295 0 0x04a00 ∷ drive 29295 7 0x00100 ∷ drive 29350 7 0x08100 ∷ drive 29350 0 0x00a00 ∷ drive 29350 7 0x00000 ∷ drive 29350 0 0x04a00 ∷ drive 29350 7 0x00100 ∷ drive 29405 7 0x08100 ∷ drive 29405 0 0x00a00 ∷ drive 29405 7 0x00000 ∷ drive 29405 0 0x03a00 ∷ drive 30205 0 0x03a04 ∷ drive 30260 0 0x07a04 ∷ drive 30260 7 0x08000 ∷ drive 30260 0 0x03a00 ∷ drive 30260 7 0x00000 ∷ drive 30260 0 0x00000 ∷ drive 31460 7 0x00280 ∷ drive 33860 7 0x00680 ∷ drive 35060 7 0x10781 ∷ drive 35150 7 0x10581 ∷ drive 35550 0 0x00200 ∷ drive 35640 7 0x10000 ∷ drive 35640 0 0x02a00 ∷ drive 36040 0 0x06a00 ∷ drive 36040 7 0x101c0 ∷ drive 36095 7 0x181c0 ∷ drive 36095 0 0x02a00 ∷ drive 36095 7 0x10000 ∷ drive 36095 0 0x06a00 ∷ drive 36095 7 0x10020 ∷ drive 36150 7 0x18020 ∷ drive 36150 0 0x02a00 ∷ drive 36150 7 0x10000 ∷ drive 36150 0 0x06a00 ∷ drive 36150 7 0x00004 ∷ drive 36240 7 0x08004 ∷ drive 36240 0 0x02a00 ∷ drive 36240 7 0x00000 ∷ drive 36240 0 0x00a00 ∷ drive 36640 0 0x04a00 ∷ drive 36640 7 0x00100 ∷ drive 36695 7 0x08100 ∷ drive 36695 0 0x00a00 ∷ drive 36695 7 0x00000 ∷ drive 36695 0 0x04a00 ∷ drive 36695 7 0x00100 ∷ drive 36750 7 0x08100 ∷ drive 36750 0 0x00a00 ∷ drive 36750 7 0x00000 ∷ drive 36750 0 0x04a00 ∷ drive 36750 7 0x00100 ∷ drive 36805 7 0x08100 ∷ drive 36805 0 0x00a00 ∷ drive 36805 7 0x00000 ∷ drive 36805 0 0x04a00 ∷ drive 36805 7 0x00100 ∷ drive 36860 7 0x08100 ∷ drive 36860 0 0x00a00 ∷ drive 36860 7 0x00000 ∷ drive 36860 0 0x04a00 ∷ drive 36860 7 0x00100 ∷ drive 36915 7 0x08100 ∷ drive 36915 0 0x00a00 ∷ drive 36915 7 0x00000 ∷ drive 36915 0 0x04a00 ∷ drive 36915 7 0x00100 ∷ drive 36970 7 0x08100 ∷ drive 36970 0 0x00a00 ∷ drive 36970 7 0x00000 ∷ drive 36970 0 0x03a00 ∷ drive 37770 0 0x03a04 ∷ drive 37825 0 0x07a04 ∷ drive 37825 7 0x08000 ∷ drive 37825 0 0x03a00 ∷ drive 37825 7 0x00000 ∷ drive 37825 0 0x00000 ∷ drive 39025 7 0x00280 ∷ drive 41425 7 0x00680 ∷ drive 42625 7 0x10781 ∷ drive 42715 7 0x10581 ∷ drive 43115 0 0x00200 ∷ drive 43205 7 0x10000 ∷ drive 43205 0 0x02a00 ∷ drive 43605 0 0x06a00 ∷ drive 43605 7 0x101c0 ∷ drive 43660 7 0x181c0 ∷ drive 43660 0 0x02a00 ∷ drive 43660 7 0x10000 ∷ drive 43660 0 0x06a00 ∷ drive 43660 7 0x10122 ∷ drive 43715 7 0x18122 ∷ drive 43715 0 0x02a00 ∷ drive 43715 7 0x10000 ∷ drive 43715 0 0x06a00 ∷ drive 43715 7 0x00105 ∷ drive 43805 7 0x08105 ∷ drive 43805 0 0x02a00 ∷ drive 43805 7 0x00000 ∷ drive 43805 0 0x00a00 ∷ drive 44205 0 0x04a00 ∷ drive 44205 7 0x00100 ∷ drive 44260 7 0x08100 ∷ drive 44260 0 0x00a00 ∷ drive 44260 7 0x00000 ∷ drive 44260 0 0x04a00 ∷ drive 44260 7 0x00100 ∷ drive 44315 7 0x08100 ∷ drive 44315 0 0x00a00 ∷ drive 44315 7 0x00000 ∷ drive 44315 0 0x04a00 ∷ drive 44315 7 0x00100 ∷ drive 44370 7 0x08100 ∷ drive 44370 0 0x00a00 ∷ drive 44370 7 0x00000 ∷ drive 44370 0 0x04a00 ∷ drive 44370 7 0x00100 ∷ drive 44425 7 0x08100 ∷ drive 44425 0 0x00a00 ∷ drive 44425 7 0x00000 ∷ drive 44425 0 0x04a00 ∷ drive 44425 7 0x00100 ∷ drive 44480 7 0x08100 ∷ drive 44480 0 0x00a00 ∷ drive 44480 7 0x00000 ∷ drive 44480 0 0x04a00 ∷ drive 44480 7 0x00100 ∷ drive 44535 7 0x08100 ∷ drive 44535 0 0x00a00 ∷ drive 44535 7 0x00000 ∷ drive 44535 0 0x03a00 ∷ drive 45335 0 0x03a04 ∷ drive 45390 0 0x07a04 ∷ drive 45390 7 0x08000 ∷ drive 45390 0 0x03a00 ∷ drive 45390 7 0x00000 ∷ drive 45390 0 0x00000 ∷ drive 1006710 0 0x00201 ∷ drive 1009110 0 0x00601 ∷ drive 1010310 0 0x01781 ∷ drive 1010400 0 0x01581 ∷ drive 1010800 7 0x00200 ∷ drive 1010800 0 0x01781 ∷ drive 1010890 0 0x03a80 ∷ drive 1010890 7 0x00000 ∷ drive 1011290 0 0x07a80 ∷ drive 1011290 7 0x08000 ∷ drive 1011290 0 0x03a20 ∷ drive 1011290 7 0x00000 ∷ drive 1011345 0 0x07a20 ∷ drive 1011345 7 0x08000 ∷ drive 1011345 0 0x03b00 ∷ drive 1011345 7 0x00000 ∷ drive 1011400 0 0x07b00 ∷ drive 1011400 7 0x08000 ∷ drive 1011400 0 0x03a00 ∷ drive 1011400 7 0x00000 ∷ drive 1011400 0 0x01b00 ∷ drive 1011800 0 0x05b00 ∷ drive 1011800 7 0x08000 ∷ drive 1011800 0 0x01a00 ∷ drive 1011800 7 0x00000 ∷ drive 1011800 0 0x03b00 ∷ drive 1012200 0 0x07b00 ∷ drive 1012200 7 0x08000 ∷ drive 1012200 0 0x03a00 ∷ drive 1012200 7 0x00000 ∷ drive 1012200 0 0x00000 ∷ drive 2012200 0 0x00201 ∷ drive 2014600 0 0x00601 ∷ drive 2015800 0 0x01781 ∷ drive 2015890 0 0x01581 ∷ drive 2016290 7 0x00200 ∷ drive 2016290 0 0x01781 ∷ drive 2016380 0 0x03a80 ∷ drive 2016380 7 0x00000 ∷ drive 2016780 0 0x07a80 ∷ drive 2016780 7 0x08000 ∷ drive 2016780 0 0x03a20 ∷ drive 2016780 7 0x00000 ∷ drive 2016835 0 0x07a20 ∷ drive 2016835 7 0x08000 ∷ drive 2016835 0 0x03b03 ∷ drive 2016835 7 0x00000 ∷ drive 2016890 0 0x07b03 ∷ drive 2016890 7 0x08000 ∷ drive 2016890 0 0x03a00 ∷ drive 2016890 7 0x00000 ∷ drive 2016890 0 0x01b00 ∷ drive 2017290 0 0x05b00 ∷ drive 2017290 7 0x08000 ∷ drive 2017290 0 0x01a00 ∷ drive 2017290 7 0x00000 ∷ drive 2017290 0 0x03b00 ∷ drive 2017690 0 0x07b00 ∷ drive 2017690 7 0x08000 ∷ drive 2017690 0 0x03a00 ∷ drive 2017690 7 0x00000 ∷ drive 2017690 0 0x00000 ∷ drive 3017690 0 0x00201 ∷ drive 3020090 0 0x00601 ∷ drive 3021290 0 0x01781 ∷ drive 3021380 0 0x01581 ∷ drive 3021780 7 0x00200 ∷ drive 3021780 0 0x01781 ∷ drive 3021870 0 0x03a80 ∷ drive 3021870 7 0x00000 ∷ drive 3022270 0 0x07a80 ∷ drive 3022270 7 0x08000 ∷ drive 3022270 0 0x03a20 ∷ drive 3022270 7 0x00000 ∷ drive 3022325 0 0x07a20 ∷ drive 3022325 7 0x08000 ∷ drive 3022325 0 0x03a02 ∷ drive 3022325 7 0x00000 ∷ drive 3022380 0 0x07a02 ∷ drive 3022380 7 0x08000 ∷ drive 3022380 0 0x03a00 ∷ drive 3022380 7 0x00000 ∷ drive 3022380 0 0x01b00 ∷ drive 3022780 0 0x05b00 ∷ drive 3022780 7 0x08000 ∷ drive 3022780 0 0x01a00 ∷ drive 3022780 7 0x00000 ∷ drive 3022780 0 0x03b00 ∷ drive 3023180 0 0x07b00 ∷ drive 3023180 7 0x08000 ∷ drive 3023180 0 0x03a00 ∷ drive 3023180 7 0x00000 ∷ drive 3023180 0 0x00000 ∷ drive 4023180 0 0x00201 ∷ drive 4025580 0 0x00601 ∷ drive 4026780 0 0x01781 ∷ drive 4026870 0 0x01581 ∷ drive 4027270 7 0x00200 ∷ drive 4027270 0 0x01781 ∷ drive 4027360 0 0x03a80 ∷ drive 4027360 7 0x00000 ∷ drive 4027760 0 0x07a80 ∷ drive 4027760 7 0x08000 ∷ drive 4027760 0 0x03a20 ∷ drive 4027760 7 0x00000 ∷ drive 4027815 0 0x07a20 ∷ drive 4027815 7 0x08000 ∷ drive 4027815 0 0x03a01 ∷ drive 4027815 7 0x00000 ∷ drive 4027870 0 0x07a01 ∷ drive 4027870 7 0x08000 ∷ drive 4027870 0 0x03a00 ∷ drive 4027870 7 0x00000 ∷ drive 4027870 0 0x01b00 ∷ drive 4028270 0 0x05b00 ∷ drive 4028270 7 0x08000 ∷ drive 4028270 0 0x01a00 ∷ drive 4028270 7 0x00000 ∷ drive 4028270 0 0x03b00 ∷ drive 4028670 0 0x07b00 ∷ drive 4028670 7 0x08000 ∷ drive 4028670 0 0x03a00 ∷ drive 4028670 7 0x00000 ∷ drive 4028670 0 0x00000 ∷ drive 5028670 0 0x00201 ∷ drive 5031070 0 0x00601 ∷ drive 5032270 0 0x01781 ∷ drive 5032360 0 0x01581 ∷ drive 5032760 7 0x00200 ∷ drive 5032760 0 0x01781 ∷ drive 5032850 0 0x03a80 ∷ drive 5032850 7 0x00000 ∷ drive 5033250 0 0x07a80 ∷ drive 5033250 7 0x08000 ∷ drive 5033250 0 0x03a20 ∷ drive 5033250 7 0x00000 ∷ drive 5033305 0 0x07a20 ∷ drive 5033305 7 0x08000 ∷ drive 5033305 0 0x03a04 ∷ drive 5033305 7 0x00000 ∷ drive 5033360 0 0x07a04 ∷ drive 5033360 7 0x08000 ∷ drive 5033360 0 0x03a00 ∷ drive 5033360 7 0x00000 ∷ drive 5033360 0 0x01b00 ∷ drive 5033760 0 0x05b00 ∷ drive 5033760 7 0x08000 ∷ drive 5033760 0 0x01a00 ∷ drive 5033760 7 0x00000 ∷ drive 5033760 0 0x03b00 ∷ drive 5034160 0 0x07b00 ∷ drive 5034160 7 0x08000 ∷ drive 5034160 0 0x03a00 ∷ drive 5034160 7 0x00000 ∷ drive 5034160 0 0x00000 ∷ drive 6034160 0 0x00201 ∷ drive 6036560 0 0x00601 ∷ drive 6037760 0 0x01781 ∷ drive 6037850 0 0x01581 ∷ drive 6038250 7 0x00200 ∷ drive 6038250 0 0x01781 ∷ drive 6038340 0 0x03a80 ∷ drive 6038340 7 0x00000 ∷ drive 6038740 0 0x07a80 ∷ drive 6038740 7 0x08000 ∷ drive 6038740 0 0x03a20 ∷ drive 6038740 7 0x00000 ∷ drive 6038795 0 0x07a20 ∷ drive 6038795 7 0x08000 ∷ drive 6038795 0 0x03b05 ∷ drive 6038795 7 0x00000 ∷ drive 6038850 0 0x07b05 ∷ drive 6038850 7 0x08000 ∷ drive 6038850 0 0x03a00 ∷ drive 6038850 7 0x00000 ∷ drive 6038850 0 0x01b00 ∷ drive 6039250 0 0x05b00 ∷ drive 6039250 7 0x08000 ∷ drive 6039250 0 0x01a00 ∷ drive 6039250 7 0x00000 ∷ drive 6039250 0 0x03b00 ∷ drive 6039650 0 0x07b00 ∷ drive 6039650 7 0x08000 ∷ drive 6039650 0 0x03a00 ∷ drive 6039650 7 0x00000 ∷ drive 6039650 0 0x00000 ∷ []

abbrev mixed_tags_run_events : List Event
mixed_tags_run_events = events.Accept (command 1) ∷ events.Accept (command 2) ∷ events.Accept (command 3) ∷ events.Accept (command 4) ∷ events.Accept (command 5) ∷ events.Accept (command 6) ∷ events.Run (command 1) ∷ events.End (command 1) 0 ∷ events.Run (command 4) ∷ events.End (command 4) 0 ∷ events.Run (command 3) ∷ events.End (command 3) 0 ∷ events.Run (command 2) ∷ events.End (command 2) 0 ∷ events.Run (command 5) ∷ events.End (command 5) 0 ∷ events.Run (command 6) ∷ events.End (command 6) 0 ∷ []

mixed_tags_run_told : shown mixed_tags_run (story mixed_tags_run (reverse mixed_tags_run_rows)) (reverse mixed_tags_run_events) ≡ record { history = reverse mixed_tags_run_events; ends = Some (ended_good ([])) ∷ Some (ended_good ([])) ∷ Some (ended_good ([])) ∷ Some (ended_good ([])) ∷ Some (ended_good ([])) ∷ Some (ended_good ([])) ∷ []; carried = true }
unfolding need_of sent_of ones union_below line_of form_out form_in
mixed_tags_run_told = refl

-- ---- negotiation_run

abbrev negotiation_run : ScenarioValue
negotiation_run = record {
  version = 1;
  hosts = record { dev = 7; latency = 0; most = 1; retries = 2; period = 50; offset = 8; lag = 0; offers = true } ∷ [];
  targets = record { dev = 0; latency = 0; retries = 2; disc = policies.Never; pick = picks.First; seek = 0; period = 50; offset = 8; begins = false } ∷ [];
  units = record { target = 0; unit = 0; blocks = 1; size = 16; depth = 1 } ∷ [];
  fills = record { target = 0; unit = 0; lba = 0; bytes = (0 ∷ 1 ∷ 2 ∷ 3 ∷ 4 ∷ 5 ∷ 6 ∷ 7 ∷ 8 ∷ 9 ∷ 10 ∷ 11 ∷ 12 ∷ 13 ∷ 14 ∷ 15 ∷ []) } ∷ [];
  tapes = [];
  loads = [];
  commands = record { host = 7; target = 0; unit = 0; at = 0; tag = tags.Untagged; cdb = (8 ∷ 0 ∷ 0 ∷ 0 ∷ 1 ∷ 0 ∷ []); payload = payloads.Nothing } ∷ [];
  aborts = [];
  resets = [];
  faults = record { at = 7010; bit = 0 } ∷ [];
}

abbrev pub negotiation_run_rows : List Row
negotiation_run_rows = drive 1200 7 0x00280 ∷ drive 3600 7 0x00680 ∷ drive 4800 7 0x10781 ∷ drive 4890 7 0x10581 ∷ drive 5290 0 0x00200 ∷ drive 5380 7 0x10000 ∷ drive 5380 0 0x02a00 ∷ drive 5780 0 0x06a00 ∷ drive 5780 7 0x101c0 ∷ drive 5835 7 0x181c0 ∷ drive 5835 0 0x02a00 ∷ drive 5835 7 0x10000 ∷ drive 5835 0 0x06a00 ∷ drive 5835 7 0x10001 ∷ drive 5890 7 0x18001 ∷ drive 5890 0 0x02a00 ∷ drive 5890 7 0x10000 ∷ drive 5890 0 0x06a00 ∷ drive 5890 7 0x10103 ∷ drive 5945 7 0x18103 ∷ drive 5945 0 0x02a00 ∷ drive 5945 7 0x10000 ∷ drive 5945 0 0x06a00 ∷ drive 5945 7 0x10001 ∷ drive 6000 7 0x18001 ∷ drive 6000 0 0x02a00 ∷ drive 6000 7 0x10000 ∷ drive 6000 0 0x06a00 ∷ drive 6000 7 0x10032 ∷ drive 6055 7 0x18032 ∷ drive 6055 0 0x02a00 ∷ drive 6055 7 0x10000 ∷ drive 6055 0 0x06a00 ∷ drive 6055 7 0x00008 ∷ drive 6145 7 0x08008 ∷ drive 6145 0 0x02a00 ∷ drive 6145 7 0x00000 ∷ drive 6145 0 0x03a00 ∷ drive 6945 0 0x03a01 ∷ drive 7000 0 0x07a01 ∷ drive 7000 7 0x08000 ∷ drive 7000 0 0x03b03 ∷ drive 7000 7 0x00000 ∷ drive 7055 0 0x07b03 ∷ strike 7055 7 0 ∷ drive 7055 7 0x18000 ∷ drive 7055 0 0x03a00 ∷ drive 7145 7 0x10000 ∷ drive 7145 0 0x02a00 ∷ drive 7545 0 0x06a00 ∷ drive 7545 7 0x00109 ∷ drive 7635 7 0x08109 ∷ drive 7635 0 0x02a00 ∷ drive 7635 7 0x00000 ∷ drive 7635 0 0x03a00 ∷ drive 8435 0 0x03a01 ∷ drive 8490 0 0x07a01 ∷ drive 8490 7 0x08000 ∷ drive 8490 0 0x03b03 ∷ drive 8490 7 0x00000 ∷ drive 8545 0 0x07b03 ∷ drive 8545 7 0x08000 ∷ drive 8545 0 0x03a01 ∷ drive 8545 7 0x00000 ∷ drive 8600 0 0x07a01 ∷ drive 8600 7 0x08000 ∷ drive 8600 0 0x03a32 ∷ drive 8600 7 0x00000 ∷ drive 8655 0 0x07a32 ∷ drive 8655 7 0x08000 ∷ drive 8655 0 0x03a08 ∷ drive 8655 7 0x00000 ∷ drive 8710 0 0x07a08 ∷ drive 8710 7 0x08000 ∷ drive 8710 0 0x03a00 ∷ drive 8710 7 0x00000 ∷ drive 8710 0 0x00a00 ∷ drive 9110 0 0x04a00 ∷ drive 9110 7 0x00008 ∷ drive 9165 7 0x08008 ∷ drive 9165 0 0x00a00 ∷ drive 9165 7 0x00000 ∷ drive 9165 0 0x04a00 ∷ drive 9165 7 0x00100 ∷ drive 9220 7 0x08100 ∷ drive 9220 0 0x00a00 ∷ drive 9220 7 0x00000 ∷ drive 9220 0 0x04a00 ∷ drive 9220 7 0x00100 ∷ drive 9275 7 0x08100 ∷ drive 9275 0 0x00a00 ∷ drive 9275 7 0x00000 ∷ drive 9275 0 0x04a00 ∷ drive 9275 7 0x00100 ∷ drive 9330 7 0x08100 ∷ drive 9330 0 0x00a00 ∷ drive 9330 7 0x00000 ∷ drive 9330 0 0x04a00 ∷ drive 9330 7 0x00001 ∷ drive 9385 7 0x08001 ∷ drive 9385 0 0x00a00 ∷ drive 9385 7 0x00000 ∷ drive 9385 0 0x04a00 ∷ drive 9385 7 0x00100 ∷ drive 9440 7 0x08100 ∷ drive 9440 0 0x00a00 ∷ drive 9440 7 0x00000 ∷ drive 9440 0 0x01200 ∷ drive 10240 0 0x01300 ∷ drive 10295 0 0x05300 ∷ drive 10295 7 0x08000 ∷ drive 10385 7 0x00000 ∷ drive 10385 0 0x01300 ∷ drive 10395 0 0x01201 ∷ drive 10495 0 0x05201 ∷ drive 10495 7 0x08000 ∷ drive 10585 7 0x00000 ∷ drive 10585 0 0x01201 ∷ drive 10595 0 0x01202 ∷ drive 10695 0 0x05202 ∷ drive 10695 7 0x08000 ∷ drive 10785 7 0x00000 ∷ drive 10785 0 0x01202 ∷ drive 10795 0 0x01303 ∷ drive 10895 0 0x05303 ∷ drive 10895 7 0x08000 ∷ drive 10985 7 0x00000 ∷ drive 10985 0 0x01303 ∷ drive 10995 0 0x01204 ∷ drive 11095 0 0x05204 ∷ drive 11095 7 0x08000 ∷ drive 11185 7 0x00000 ∷ drive 11185 0 0x01204 ∷ drive 11195 0 0x01305 ∷ drive 11295 0 0x05305 ∷ drive 11295 7 0x08000 ∷ drive 11385 7 0x00000 ∷ drive 11385 0 0x01305 ∷ drive 11395 0 0x01306 ∷ drive 11495 0 0x05306 ∷ drive 11495 7 0x08000 ∷ drive 11585 7 0x00000 ∷ drive 11585 0 0x01306 ∷ drive 11595 0 0x01207 ∷ drive 11695 0 0x05207 ∷ drive 11695 7 0x08000 ∷ drive 11785 7 0x00000 ∷ drive 11785 0 0x01207 ∷ drive 11795 0 0x01208 ∷ drive 11895 0 0x05208 ∷ drive 11895 7 0x08000 ∷ drive 11985 7 0x00000 ∷ drive 11985 0 0x01208 ∷ drive 11995 0 0x01309 ∷ drive 12095 0 0x05309 ∷ drive 12095 7 0x08000 ∷ drive 12185 7 0x00000 ∷ drive 12185 0 0x01309 ∷ drive 12195 0 0x0130a ∷ drive 12295 0 0x0530a ∷ drive 12295 7 0x08000 ∷ drive 12385 7 0x00000 ∷ drive 12385 0 0x0130a ∷ drive 12395 0 0x0120b ∷ drive 12495 0 0x0520b ∷ drive 12495 7 0x08000 ∷ drive 12585 7 0x00000 ∷ drive 12585 0 0x0120b ∷ drive 12595 0 0x0130c ∷ drive 12695 0 0x0530c ∷ drive 12695 7 0x08000 ∷ drive 12785 7 0x00000 ∷ drive 12785 0 0x0130c ∷ drive 12795 0 0x0120d ∷ drive 12895 0 0x0520d ∷ drive 12895 7 0x08000 ∷ drive 12985 7 0x00000 ∷ drive 12985 0 0x0120d ∷ drive 12995 0 0x0120e ∷ drive 13095 0 0x0520e ∷ drive 13095 7 0x08000 ∷ drive 13185 7 0x00000 ∷ drive 13185 0 0x0120e ∷ drive 13195 0 0x0130f ∷ drive 13295 0 0x0530f ∷ drive 13295 7 0x08000 ∷ drive 13385 7 0x00000 ∷ drive 13385 0 0x0130f ∷ drive 13395 0 0x01200 ∷ drive 13395 0 0x01b00 ∷ drive 13795 0 0x05b00 ∷ drive 13795 7 0x08000 ∷ drive 13795 0 0x01a00 ∷ drive 13795 7 0x00000 ∷ drive 13795 0 0x03b00 ∷ drive 14195 0 0x07b00 ∷ drive 14195 7 0x08000 ∷ drive 14195 0 0x03a00 ∷ drive 14195 7 0x00000 ∷ drive 14195 0 0x00000 ∷ []

abbrev negotiation_run_events : List Event
negotiation_run_events = events.Accept (command 1) ∷ events.Run (command 1) ∷ events.End (command 1) 0 ∷ []

negotiation_run_told : shown negotiation_run (story negotiation_run (reverse negotiation_run_rows)) (reverse negotiation_run_events) ≡ record { history = reverse negotiation_run_events; ends = Some (ended_good (0 ∷ 1 ∷ 2 ∷ 3 ∷ 4 ∷ 5 ∷ 6 ∷ 7 ∷ 8 ∷ 9 ∷ 10 ∷ 11 ∷ 12 ∷ 13 ∷ 14 ∷ 15 ∷ [])) ∷ []; carried = true }
unfolding need_of sent_of ones union_below line_of form_out form_in
negotiation_run_told = refl

negotiation_run_struck : expected_strikes negotiation_run (reverse negotiation_run_rows) ≡ row_strikes negotiation_run_rows
unfolding need_of sent_of ones union_below line_of form_out form_in
negotiation_run_struck = refl

-- ---- order_run

abbrev order_run : ScenarioValue
order_run = record {
  version = 1;
  hosts = record { dev = 7; latency = 0; most = 8; retries = 2; period = 0; offset = 0; lag = 0; offers = true } ∷ [];
  targets = record { dev = 0; latency = 0; retries = 2; disc = policies.Command; pick = picks.Last; seek = 100000; period = 0; offset = 0; begins = false } ∷ [];
  units = record { target = 0; unit = 0; blocks = 4; size = 16; depth = 8 } ∷ [];
  fills = record { target = 0; unit = 0; lba = 0; bytes = (0 ∷ 1 ∷ 2 ∷ 3 ∷ 4 ∷ 5 ∷ 6 ∷ 7 ∷ 8 ∷ 9 ∷ 10 ∷ 11 ∷ 12 ∷ 13 ∷ 14 ∷ 15 ∷ []) } ∷ [];
  tapes = [];
  loads = [];
  commands = record { host = 7; target = 0; unit = 0; at = 0; tag = tags.Simple 1; cdb = (10 ∷ 0 ∷ 0 ∷ 1 ∷ 1 ∷ 0 ∷ []); payload = payloads.From 16 } ∷ record { host = 7; target = 0; unit = 0; at = 0; tag = tags.Simple 2; cdb = (10 ∷ 0 ∷ 0 ∷ 2 ∷ 1 ∷ 0 ∷ []); payload = payloads.From 32 } ∷ record { host = 7; target = 0; unit = 0; at = 0; tag = tags.Ordered 3; cdb = (10 ∷ 0 ∷ 0 ∷ 1 ∷ 1 ∷ 0 ∷ []); payload = payloads.From 48 } ∷ record { host = 7; target = 0; unit = 0; at = 0; tag = tags.Simple 4; cdb = (8 ∷ 0 ∷ 0 ∷ 3 ∷ 1 ∷ 0 ∷ []); payload = payloads.Nothing } ∷ [];
  aborts = [];
  resets = [];
  faults = [];
}

abbrev pub order_run_rows : List Row
order_run_rows = drive 1200 7 0x00280 ∷ drive 3600 7 0x00680 ∷ drive 4800 7 0x10781 ∷ drive 4890 7 0x10581 ∷ drive 5290 0 0x00200 ∷ drive 5380 7 0x10000 ∷ drive 5380 0 0x02a00 ∷ drive 5780 0 0x06a00 ∷ drive 5780 7 0x101c0 ∷ drive 5835 7 0x181c0 ∷ drive 5835 0 0x02a00 ∷ drive 5835 7 0x10000 ∷ drive 5835 0 0x06a00 ∷ drive 5835 7 0x10020 ∷ drive 5890 7 0x18020 ∷ drive 5890 0 0x02a00 ∷ drive 5890 7 0x10000 ∷ drive 5890 0 0x06a00 ∷ drive 5890 7 0x00001 ∷ drive 5980 7 0x08001 ∷ drive 5980 0 0x02a00 ∷ drive 5980 7 0x00000 ∷ drive 5980 0 0x00a00 ∷ drive 6380 0 0x04a00 ∷ drive 6380 7 0x0010a ∷ drive 6435 7 0x0810a ∷ drive 6435 0 0x00a00 ∷ drive 6435 7 0x00000 ∷ drive 6435 0 0x04a00 ∷ drive 6435 7 0x00100 ∷ drive 6490 7 0x08100 ∷ drive 6490 0 0x00a00 ∷ drive 6490 7 0x00000 ∷ drive 6490 0 0x04a00 ∷ drive 6490 7 0x00100 ∷ drive 6545 7 0x08100 ∷ drive 6545 0 0x00a00 ∷ drive 6545 7 0x00000 ∷ drive 6545 0 0x04a00 ∷ drive 6545 7 0x00001 ∷ drive 6600 7 0x08001 ∷ drive 6600 0 0x00a00 ∷ drive 6600 7 0x00000 ∷ drive 6600 0 0x04a00 ∷ drive 6600 7 0x00001 ∷ drive 6655 7 0x08001 ∷ drive 6655 0 0x00a00 ∷ drive 6655 7 0x00000 ∷ drive 6655 0 0x04a00 ∷ drive 6655 7 0x00100 ∷ drive 6710 7 0x08100 ∷ drive 6710 0 0x00a00 ∷ drive 6710 7 0x00000 ∷ drive 6710 0 0x03a00 ∷ drive 7510 0 0x03a04 ∷ drive 7565 0 0x07a04 ∷ drive 7565 7 0x08000 ∷ drive 7565 0 0x03a00 ∷ drive 7565 7 0x00000 ∷ drive 7565 0 0x00000 ∷ drive 8765 7 0x00280 ∷ drive 11165 7 0x00680 ∷ drive 12365 7 0x10781 ∷ drive 12455 7 0x10581 ∷ drive 12855 0 0x00200 ∷ drive 12945 7 0x10000 ∷ drive 12945 0 0x02a00 ∷ drive 13345 0 0x06a00 ∷ drive 13345 7 0x101c0 ∷ drive 13400 7 0x181c0 ∷ drive 13400 0 0x02a00 ∷ drive 13400 7 0x10000 ∷ drive 13400 0 0x06a00 ∷ drive 13400 7 0x10020 ∷ drive 13455 7 0x18020 ∷ drive 13455 0 0x02a00 ∷ drive 13455 7 0x10000 ∷ drive 13455 0 0x06a00 ∷ drive 13455 7 0x00002 ∷ drive 13545 7 0x08002 ∷ drive 13545 0 0x02a00 ∷ drive 13545 7 0x00000 ∷ drive 13545 0 0x00a00 ∷ drive 13945 0 0x04a00 ∷ drive 13945 7 0x0010a ∷ drive 14000 7 0x0810a ∷ drive 14000 0 0x00a00 ∷ drive 14000 7 0x00000 ∷ drive 14000 0 0x04a00 ∷ drive 14000 7 0x00100 ∷ drive 14055 7 0x08100 ∷ drive 14055 0 0x00a00 ∷ drive 14055 7 0x00000 ∷ drive 14055 0 0x04a00 ∷ drive 14055 7 0x00100 ∷ drive 14110 7 0x08100 ∷ drive 14110 0 0x00a00 ∷ drive 14110 7 0x00000 ∷ drive 14110 0 0x04a00 ∷ drive 14110 7 0x00002 ∷ drive 14165 7 0x08002 ∷ drive 14165 0 0x00a00 ∷ drive 14165 7 0x00000 ∷ drive 14165 0 0x04a00 ∷ drive 14165 7 0x00001 ∷ drive 14220 7 0x08001 ∷ drive 14220 0 0x00a00 ∷ drive 14220 7 0x00000 ∷ drive 14220 0 0x04a00 ∷ drive 14220 7 0x00100 ∷ drive 14275 7 0x08100 ∷ drive 14275 0 0x00a00 ∷ drive 14275 7 0x00000 ∷ drive 14275 0 0x03a00 ∷ drive 15075 0 0x03a04 ∷ drive 15130 0 0x07a04 ∷ drive 15130 7 0x08000 ∷ drive 15130 0 0x03a00 ∷ drive 15130 7 0x00000 ∷ drive 15130 0 0x00000 ∷ drive 16330 7 0x00280 ∷ drive 18730 7 0x00680 ∷ drive 19930 7 0x10781 ∷ drive 20020 7 0x10581 ∷ drive 20420 0 0x00200 ∷ drive 20510 7 0x10000 ∷ drive 20510 0 0x02a00 ∷ drive 20910 0 0x06a00 ∷ drive 20910 7 0x101c0 ∷ drive 20965 7 0x181c0 ∷ drive 20965 0 0x02a00 ∷ drive 20965 7 0x10000 ∷ drive 20965 0 0x06a00 ∷ drive 20965 7 0x10122 ∷ drive 21020 7 0x18122 ∷ drive 21020 0 0x02a00 ∷ drive 21020 7 0x10000 ∷ drive 21020 0 0x06a00 ∷ drive 21020 7 0x00103 ∷ drive 21110 7 0x08103 ∷ drive 21110 0 0x02a00 ∷ drive 21110 7 0x00000 ∷ drive 21110 0 0x00a00 ∷ drive 21510 0 0x04a00 ∷ drive 21510 7 0x0010a ∷ drive 21565 7 0x0810a ∷ drive 21565 0 0x00a00 ∷ drive 21565 7 0x00000 ∷ drive 21565 0 0x04a00 ∷ drive 21565 7 0x00100 ∷ drive 21620 7 0x08100 ∷ drive 21620 0 0x00a00 ∷ drive 21620 7 0x00000 ∷ drive 21620 0 0x04a00 ∷ drive 21620 7 0x00100 ∷ drive 21675 7 0x08100 ∷ drive 21675 0 0x00a00 ∷ drive 21675 7 0x00000 ∷ drive 21675 0 0x04a00 ∷ drive 21675 7 0x00001 ∷ drive 21730 7 0x08001 ∷ drive 21730 0 0x00a00 ∷ drive 21730 7 0x00000 ∷ drive 21730 0 0x04a00 ∷ drive 21730 7 0x00001 ∷ drive 21785 7 0x08001 ∷ drive 21785 0 0x00a00 ∷ drive 21785 7 0x00000 ∷ drive 21785 0 0x04a00 ∷ drive 21785 7 0x00100 ∷ drive 21840 7 0x08100 ∷ drive 21840 0 0x00a00 ∷ drive 21840 7 0x00000 ∷ drive 21840 0 0x03a00 ∷ drive 22640 0 0x03a04 ∷ drive 22695 0 0x07a04 ∷ drive 22695 7 0x08000 ∷ drive 22695 0 0x03a00 ∷ drive 22695 7 0x00000 ∷ drive 22695 0 0x00000 ∷ drive 23895 7 0x00280 ∷ drive 26295 7 0x00680 ∷ drive 27495 7 0x10781 ∷ drive 27585 7 0x10581 ∷ drive 27985 0 0x00200 ∷ drive 28075 7 0x10000 ∷ drive 28075 0 0x02a00 ∷ drive 28475 0 0x06a00 ∷ drive 28475 7 0x101c0 ∷ drive 28530 7 0x181c0 ∷ drive 28530 0 0x02a00 ∷ drive 28530 7 0x10000 ∷ drive 28530 0 0x06a00 ∷ drive 28530 7 0x10020 ∷ drive 28585 7 0x18020 ∷ drive 28585 0 0x02a00 ∷ drive 28585 7 0x10000 ∷ drive 28585 0 0x06a00 ∷ drive 28585 7 0x00004 ∷ drive 28675 7 0x08004 ∷ drive 28675 0 0x02a00 ∷ drive 28675 7 0x00000 ∷ drive 28675 0 0x00a00 ∷ drive 29075 0 0x04a00 ∷ drive 29075 7 0x00008 ∷ drive 29130 7 0x08008 ∷ drive 29130 0 0x00a00 ∷ drive 29130 7 0x00000 ∷ drive 29130 0 0x04a00 ∷ drive 29130 7 0x00100 ∷ drive 29185 7 0x08100 ∷ drive 29185 0 0x00a00 ∷ drive 29185 7 0x00000 ∷ drive 29185 0 0x04a00 ∷ drive 29185 7 0x00100 ∷ drive 29240 7 0x08100 ∷ drive 29240 0 0x00a00 ∷ drive 29240 7 0x00000 ∷ drive 29240 0 0x04a00 ∷ drive 29240 7 0x00103 ∷ drive 29295 7 0x08103 ∷ drive 29295 0 0x00a00 ∷ drive 29295 7 0x00000 ∷ drive 29295 0 0x04a00 ∷ drive 29295 7 0x00001 ∷ drive 29350 7 0x08001 ∷ drive 29350 0 0x00a00 ∷ drive 29350 7 0x00000 ∷ drive 29350 0 0x04a00 ∷ drive 29350 7 0x00100 ∷ drive 29405 7 0x08100 ∷ drive 29405 0 0x00a00 ∷ drive 29405 7 0x00000 ∷ drive 29405 0 0x03a00 ∷ drive 30205 0 0x03a04 ∷ drive 30260 0 0x07a04 ∷ drive 30260 7 0x08000 ∷ drive 30260 0 0x03a00 ∷ drive 30260 7 0x00000 ∷ drive 30260 0 0x00000 ∷ drive 106710 0 0x00201 ∷ drive 109110 0 0x00601 ∷ drive 110310 0 0x01781 ∷ drive 110400 0 0x01581 ∷ drive 110800 7 0x00200 ∷ drive 110800 0 0x01781 ∷ drive 110890 0 0x03a80 ∷ drive 110890 7 0x00000 ∷ drive 111290 0 0x07a80 ∷ drive 111290 7 0x08000 ∷ drive 111290 0 0x03a20 ∷ drive 111290 7 0x00000 ∷ drive 111345 0 0x07a20 ∷ drive 111345 7 0x08000 ∷ drive 111345 0 0x03a01 ∷ drive 111345 7 0x00000 ∷ drive 111400 0 0x07a01 ∷ drive 111400 7 0x08000 ∷ drive 111400 0 0x03a00 ∷ drive 111400 7 0x00000 ∷ drive 111400 0 0x00200 ∷ drive 111800 0 0x04200 ∷ drive 111800 7 0x00010 ∷ drive 111855 7 0x08010 ∷ drive 111855 0 0x00200 ∷ drive 111855 7 0x00000 ∷ drive 111855 0 0x04200 ∷ drive 111855 7 0x00111 ∷ drive 111910 7 0x08111 ∷ drive 111910 0 0x00200 ∷ drive 111910 7 0x00000 ∷ drive 111910 0 0x04200 ∷ drive 111910 7 0x00112 ∷ drive 111965 7 0x08112 ∷ drive 111965 0 0x00200 ∷ drive 111965 7 0x00000 ∷ drive 111965 0 0x04200 ∷ drive 111965 7 0x00013 ∷ drive 112020 7 0x08013 ∷ drive 112020 0 0x00200 ∷ drive 112020 7 0x00000 ∷ drive 112020 0 0x04200 ∷ drive 112020 7 0x00114 ∷ drive 112075 7 0x08114 ∷ drive 112075 0 0x00200 ∷ drive 112075 7 0x00000 ∷ drive 112075 0 0x04200 ∷ drive 112075 7 0x00015 ∷ drive 112130 7 0x08015 ∷ drive 112130 0 0x00200 ∷ drive 112130 7 0x00000 ∷ drive 112130 0 0x04200 ∷ drive 112130 7 0x00016 ∷ drive 112185 7 0x08016 ∷ drive 112185 0 0x00200 ∷ drive 112185 7 0x00000 ∷ drive 112185 0 0x04200 ∷ drive 112185 7 0x00117 ∷ drive 112240 7 0x08117 ∷ drive 112240 0 0x00200 ∷ drive 112240 7 0x00000 ∷ drive 112240 0 0x04200 ∷ drive 112240 7 0x00118 ∷ drive 112295 7 0x08118 ∷ drive 112295 0 0x00200 ∷ drive 112295 7 0x00000 ∷ drive 112295 0 0x04200 ∷ drive 112295 7 0x00019 ∷ drive 112350 7 0x08019 ∷ drive 112350 0 0x00200 ∷ drive 112350 7 0x00000 ∷ drive 112350 0 0x04200 ∷ drive 112350 7 0x0001a ∷ drive 112405 7 0x0801a ∷ drive 112405 0 0x00200 ∷ drive 112405 7 0x00000 ∷ drive 112405 0 0x04200 ∷ drive 112405 7 0x0011b ∷ drive 112460 7 0x0811b ∷ drive 112460 0 0x00200 ∷ drive 112460 7 0x00000 ∷ drive 112460 0 0x04200 ∷ drive 112460 7 0x0001c ∷ drive 112515 7 0x0801c ∷ drive 112515 0 0x00200 ∷ drive 112515 7 0x00000 ∷ drive 112515 0 0x04200 ∷ drive 112515 7 0x0011d ∷ drive 112570 7 0x0811d ∷ drive 112570 0 0x00200 ∷ drive 112570 7 0x00000 ∷ drive 112570 0 0x04200 ∷ drive 112570 7 0x0011e ∷ drive 112625 7 0x0811e ∷ drive 112625 0 0x00200 ∷ drive 112625 7 0x00000 ∷ drive 112625 0 0x04200 ∷ drive 112625 7 0x0001f ∷ drive 112680 7 0x0801f ∷ drive 112680 0 0x00200 ∷ drive 112680 7 0x00000 ∷ drive 112680 0 0x01a00 ∷ drive 113480 0 0x01b00 ∷ drive 113535 0 0x05b00 ∷ drive 113535 7 0x08000 ∷ drive 113535 0 0x01a00 ∷ drive 113535 7 0x00000 ∷ drive 113535 0 0x03b00 ∷ drive 113935 0 0x07b00 ∷ drive 113935 7 0x08000 ∷ drive 113935 0 0x03a00 ∷ drive 113935 7 0x00000 ∷ drive 113935 0 0x00000 ∷ drive 213935 0 0x00201 ∷ drive 216335 0 0x00601 ∷ drive 217535 0 0x01781 ∷ drive 217625 0 0x01581 ∷ drive 218025 7 0x00200 ∷ drive 218025 0 0x01781 ∷ drive 218115 0 0x03a80 ∷ drive 218115 7 0x00000 ∷ drive 218515 0 0x07a80 ∷ drive 218515 7 0x08000 ∷ drive 218515 0 0x03a20 ∷ drive 218515 7 0x00000 ∷ drive 218570 0 0x07a20 ∷ drive 218570 7 0x08000 ∷ drive 218570 0 0x03a02 ∷ drive 218570 7 0x00000 ∷ drive 218625 0 0x07a02 ∷ drive 218625 7 0x08000 ∷ drive 218625 0 0x03a00 ∷ drive 218625 7 0x00000 ∷ drive 218625 0 0x00200 ∷ drive 219025 0 0x04200 ∷ drive 219025 7 0x00020 ∷ drive 219080 7 0x08020 ∷ drive 219080 0 0x00200 ∷ drive 219080 7 0x00000 ∷ drive 219080 0 0x04200 ∷ drive 219080 7 0x00121 ∷ drive 219135 7 0x08121 ∷ drive 219135 0 0x00200 ∷ drive 219135 7 0x00000 ∷ drive 219135 0 0x04200 ∷ drive 219135 7 0x00122 ∷ drive 219190 7 0x08122 ∷ drive 219190 0 0x00200 ∷ drive 219190 7 0x00000 ∷ drive 219190 0 0x04200 ∷ drive 219190 7 0x00023 ∷ drive 219245 7 0x08023 ∷ drive 219245 0 0x00200 ∷ drive 219245 7 0x00000 ∷ drive 219245 0 0x04200 ∷ drive 219245 7 0x00124 ∷ drive 219300 7 0x08124 ∷ drive 219300 0 0x00200 ∷ drive 219300 7 0x00000 ∷ drive 219300 0 0x04200 ∷ drive 219300 7 0x00025 ∷ drive 219355 7 0x08025 ∷ drive 219355 0 0x00200 ∷ drive 219355 7 0x00000 ∷ drive 219355 0 0x04200 ∷ drive 219355 7 0x00026 ∷ drive 219410 7 0x08026 ∷ drive 219410 0 0x00200 ∷ drive 219410 7 0x00000 ∷ drive 219410 0 0x04200 ∷ drive 219410 7 0x00127 ∷ drive 219465 7 0x08127 ∷ drive 219465 0 0x00200 ∷ drive 219465 7 0x00000 ∷ drive 219465 0 0x04200 ∷ drive 219465 7 0x00128 ∷ drive 219520 7 0x08128 ∷ drive 219520 0 0x00200 ∷ drive 219520 7 0x00000 ∷ drive 219520 0 0x04200 ∷ drive 219520 7 0x00029 ∷ drive 219575 7 0x08029 ∷ drive 219575 0 0x00200 ∷ drive 219575 7 0x00000 ∷ drive 219575 0 0x04200 ∷ drive 219575 7 0x0002a ∷ drive 219630 7 0x0802a ∷ drive 219630 0 0x00200 ∷ drive 219630 7 0x00000 ∷ drive 219630 0 0x04200 ∷ drive 219630 7 0x0012b ∷ drive 219685 7 0x0812b ∷ drive 219685 0 0x00200 ∷ drive 219685 7 0x00000 ∷ drive 219685 0 0x04200 ∷ drive 219685 7 0x0002c ∷ drive 219740 7 0x0802c ∷ drive 219740 0 0x00200 ∷ drive 219740 7 0x00000 ∷ drive 219740 0 0x04200 ∷ drive 219740 7 0x0012d ∷ drive 219795 7 0x0812d ∷ drive 219795 0 0x00200 ∷ drive 219795 7 0x00000 ∷ drive 219795 0 0x04200 ∷ drive 219795 7 0x0012e ∷ drive 219850 7 0x0812e ∷ drive 219850 0 0x00200 ∷ drive 219850 7 0x00000 ∷ drive 219850 0 0x04200 ∷ drive 219850 7 0x0002f ∷ drive 219905 7 0x0802f ∷ drive 219905 0 0x00200 ∷ drive 219905 7 0x00000 ∷ drive 219905 0 0x01a00 ∷ drive 220705 0 0x01b00 ∷ drive 220760 0 0x05b00 ∷ drive 220760 7 0x08000 ∷ drive 220760 0 0x01a00 ∷ drive 220760 7 0x00000 ∷ drive 220760 0 0x03b00 ∷ drive 221160 0 0x07b00 ∷ drive 221160 7 0x08000 ∷ drive 221160 0 0x03a00 ∷ drive 221160 7 0x00000 ∷ drive 221160 0 0x00000 ∷ drive 321160 0 0x00201 ∷ drive 323560 0 0x00601 ∷ drive 324760 0 0x01781 ∷ drive 324850 0 0x01581 ∷ drive 325250 7 0x00200 ∷ drive 325250 0 0x01781 ∷ drive 325340 0 0x03a80 ∷ drive 325340 7 0x00000 ∷ drive 325740 0 0x07a80 ∷ drive 325740 7 0x08000 ∷ drive 325740 0 0x03a20 ∷ drive 325740 7 0x00000 ∷ drive 325795 0 0x07a20 ∷ drive 325795 7 0x08000 ∷ drive 325795 0 0x03b03 ∷ drive 325795 7 0x00000 ∷ drive 325850 0 0x07b03 ∷ drive 325850 7 0x08000 ∷ drive 325850 0 0x03a00 ∷ drive 325850 7 0x00000 ∷ drive 325850 0 0x00200 ∷ drive 326250 0 0x04200 ∷ drive 326250 7 0x00130 ∷ drive 326305 7 0x08130 ∷ drive 326305 0 0x00200 ∷ drive 326305 7 0x00000 ∷ drive 326305 0 0x04200 ∷ drive 326305 7 0x00031 ∷ drive 326360 7 0x08031 ∷ drive 326360 0 0x00200 ∷ drive 326360 7 0x00000 ∷ drive 326360 0 0x04200 ∷ drive 326360 7 0x00032 ∷ drive 326415 7 0x08032 ∷ drive 326415 0 0x00200 ∷ drive 326415 7 0x00000 ∷ drive 326415 0 0x04200 ∷ drive 326415 7 0x00133 ∷ drive 326470 7 0x08133 ∷ drive 326470 0 0x00200 ∷ drive 326470 7 0x00000 ∷ drive 326470 0 0x04200 ∷ drive 326470 7 0x00034 ∷ drive 326525 7 0x08034 ∷ drive 326525 0 0x00200 ∷ drive 326525 7 0x00000 ∷ drive 326525 0 0x04200 ∷ drive 326525 7 0x00135 ∷ drive 326580 7 0x08135 ∷ drive 326580 0 0x00200 ∷ drive 326580 7 0x00000 ∷ drive 326580 0 0x04200 ∷ drive 326580 7 0x00136 ∷ drive 326635 7 0x08136 ∷ drive 326635 0 0x00200 ∷ drive 326635 7 0x00000 ∷ drive 326635 0 0x04200 ∷ drive 326635 7 0x00037 ∷ drive 326690 7 0x08037 ∷ drive 326690 0 0x00200 ∷ drive 326690 7 0x00000 ∷ drive 326690 0 0x04200 ∷ drive 326690 7 0x00038 ∷ drive 326745 7 0x08038 ∷ drive 326745 0 0x00200 ∷ drive 326745 7 0x00000 ∷ drive 326745 0 0x04200 ∷ drive 326745 7 0x00139 ∷ drive 326800 7 0x08139 ∷ drive 326800 0 0x00200 ∷ drive 326800 7 0x00000 ∷ drive 326800 0 0x04200 ∷ drive 326800 7 0x0013a ∷ drive 326855 7 0x0813a ∷ drive 326855 0 0x00200 ∷ drive 326855 7 0x00000 ∷ drive 326855 0 0x04200 ∷ drive 326855 7 0x0003b ∷ drive 326910 7 0x0803b ∷ drive 326910 0 0x00200 ∷ drive 326910 7 0x00000 ∷ drive 326910 0 0x04200 ∷ drive 326910 7 0x0013c ∷ drive 326965 7 0x0813c ∷ drive 326965 0 0x00200 ∷ drive 326965 7 0x00000 ∷ drive 326965 0 0x04200 ∷ drive 326965 7 0x0003d ∷ drive 327020 7 0x0803d ∷ drive 327020 0 0x00200 ∷ drive 327020 7 0x00000 ∷ drive 327020 0 0x04200 ∷ drive 327020 7 0x0003e ∷ drive 327075 7 0x0803e ∷ drive 327075 0 0x00200 ∷ drive 327075 7 0x00000 ∷ drive 327075 0 0x04200 ∷ drive 327075 7 0x0013f ∷ drive 327130 7 0x0813f ∷ drive 327130 0 0x00200 ∷ drive 327130 7 0x00000 ∷ drive 327130 0 0x01a00 ∷ drive 327930 0 0x01b00 ∷ drive 327985 0 0x05b00 ∷ drive 327985 7 0x08000 ∷ drive 327985 0 0x01a00 ∷ drive 327985 7 0x00000 ∷ drive 327985 0 0x03b00 ∷ drive 328385 0 0x07b00 ∷ drive 328385 7 0x08000 ∷ drive 328385 0 0x03a00 ∷ drive 328385 7 0x00000 ∷ drive 328385 0 0x00000 ∷ drive 428385 0 0x00201 ∷ drive 430785 0 0x00601 ∷ drive 431985 0 0x01781 ∷ drive 432075 0 0x01581 ∷ drive 432475 7 0x00200 ∷ drive 432475 0 0x01781 ∷ drive 432565 0 0x03a80 ∷ drive 432565 7 0x00000 ∷ drive 432965 0 0x07a80 ∷ drive 432965 7 0x08000 ∷ drive 432965 0 0x03a20 ∷ drive 432965 7 0x00000 ∷ drive 433020 0 0x07a20 ∷ drive 433020 7 0x08000 ∷ drive 433020 0 0x03a04 ∷ drive 433020 7 0x00000 ∷ drive 433075 0 0x07a04 ∷ drive 433075 7 0x08000 ∷ drive 433075 0 0x03a00 ∷ drive 433075 7 0x00000 ∷ drive 433075 0 0x01300 ∷ drive 433475 0 0x05300 ∷ drive 433475 7 0x08000 ∷ drive 433475 0 0x01300 ∷ drive 433475 7 0x00000 ∷ drive 433530 0 0x05300 ∷ drive 433530 7 0x08000 ∷ drive 433530 0 0x01300 ∷ drive 433530 7 0x00000 ∷ drive 433585 0 0x05300 ∷ drive 433585 7 0x08000 ∷ drive 433585 0 0x01300 ∷ drive 433585 7 0x00000 ∷ drive 433640 0 0x05300 ∷ drive 433640 7 0x08000 ∷ drive 433640 0 0x01300 ∷ drive 433640 7 0x00000 ∷ drive 433695 0 0x05300 ∷ drive 433695 7 0x08000 ∷ drive 433695 0 0x01300 ∷ drive 433695 7 0x00000 ∷ drive 433750 0 0x05300 ∷ drive 433750 7 0x08000 ∷ drive 433750 0 0x01300 ∷ drive 433750 7 0x00000 ∷ drive 433805 0 0x05300 ∷ drive 433805 7 0x08000 ∷ drive 433805 0 0x01300 ∷ drive 433805 7 0x00000 ∷ drive 433860 0 0x05300 ∷ drive 433860 7 0x08000 ∷ drive 433860 0 0x01300 ∷ drive 433860 7 0x00000 ∷ drive 433915 0 0x05300 ∷ drive 433915 7 0x08000 ∷ drive 433915 0 0x01300 ∷ drive 433915 7 0x00000 ∷ drive 433970 0 0x05300 ∷ drive 433970 7 0x08000 ∷ drive 433970 0 0x01300 ∷ drive 433970 7 0x00000 ∷ drive 434025 0 0x05300 ∷ drive 434025 7 0x08000 ∷ drive 434025 0 0x01300 ∷ drive 434025 7 0x00000 ∷ drive 434080 0 0x05300 ∷ drive 434080 7 0x08000 ∷ drive 434080 0 0x01300 ∷ drive 434080 7 0x00000 ∷ drive 434135 0 0x05300 ∷ drive 434135 7 0x08000 ∷ drive 434135 0 0x01300 ∷ drive 434135 7 0x00000 ∷ drive 434190 0 0x05300 ∷ drive 434190 7 0x08000 ∷ drive 434190 0 0x01300 ∷ drive 434190 7 0x00000 ∷ drive 434245 0 0x05300 ∷ drive 434245 7 0x08000 ∷ drive 434245 0 0x01300 ∷ drive 434245 7 0x00000 ∷ drive 434300 0 0x05300 ∷ drive 434300 7 0x08000 ∷ drive 434300 0 0x01200 ∷ drive 434300 7 0x00000 ∷ drive 434300 0 0x01b00 ∷ drive 434700 0 0x05b00 ∷ drive 434700 7 0x08000 ∷ drive 434700 0 0x01a00 ∷ drive 434700 7 0x00000 ∷ drive 434700 0 0x03b00 ∷ drive 435100 0 0x07b00 ∷ drive 435100 7 0x08000 ∷ drive 435100 0 0x03a00 ∷ drive 435100 7 0x00000 ∷ drive 435100 0 0x00000 ∷ []

abbrev order_run_events : List Event
order_run_events = events.Accept (command 1) ∷ events.Accept (command 2) ∷ events.Accept (command 3) ∷ events.Accept (command 4) ∷ events.Run (command 1) ∷ events.End (command 1) 0 ∷ events.Run (command 2) ∷ events.End (command 2) 0 ∷ events.Run (command 3) ∷ events.End (command 3) 0 ∷ events.Run (command 4) ∷ events.End (command 4) 0 ∷ []

order_run_told : shown order_run (story order_run (reverse order_run_rows)) (reverse order_run_events) ≡ record { history = reverse order_run_events; ends = Some (ended_good ([])) ∷ Some (ended_good ([])) ∷ Some (ended_good ([])) ∷ Some (ended_good (0 ∷ 0 ∷ 0 ∷ 0 ∷ 0 ∷ 0 ∷ 0 ∷ 0 ∷ 0 ∷ 0 ∷ 0 ∷ 0 ∷ 0 ∷ 0 ∷ 0 ∷ 0 ∷ [])) ∷ []; carried = true }
unfolding need_of sent_of ones union_below line_of form_out form_in
order_run_told = refl

-- ---- queue_run

abbrev queue_run : ScenarioValue
queue_run = record {
  version = 1;
  hosts = record { dev = 6; latency = 0; most = 8; retries = 2; period = 0; offset = 0; lag = 0; offers = true } ∷ record { dev = 7; latency = 0; most = 8; retries = 2; period = 0; offset = 0; lag = 0; offers = true } ∷ [];
  targets = record { dev = 0; latency = 0; retries = 2; disc = policies.Command; pick = picks.First; seek = 1000000; period = 0; offset = 0; begins = false } ∷ [];
  units = record { target = 0; unit = 0; blocks = 2; size = 16; depth = 8 } ∷ [];
  fills = [];
  tapes = [];
  loads = [];
  commands = record { host = 7; target = 0; unit = 0; at = 0; tag = tags.Simple 1; cdb = (10 ∷ 0 ∷ 0 ∷ 1 ∷ 1 ∷ 0 ∷ []); payload = payloads.From 16 } ∷ record { host = 6; target = 0; unit = 0; at = 0; tag = tags.Simple 2; cdb = (10 ∷ 0 ∷ 0 ∷ 1 ∷ 1 ∷ 0 ∷ []); payload = payloads.From 32 } ∷ record { host = 7; target = 0; unit = 0; at = 100000; tag = tags.Simple 3; cdb = (10 ∷ 0 ∷ 0 ∷ 0 ∷ 1 ∷ 0 ∷ []); payload = payloads.From 48 } ∷ record { host = 6; target = 0; unit = 0; at = 100000; tag = tags.Simple 4; cdb = (18 ∷ 0 ∷ 0 ∷ 0 ∷ 36 ∷ 0 ∷ []); payload = payloads.Nothing } ∷ record { host = 6; target = 0; unit = 0; at = 2000000; tag = tags.Simple 5; cdb = (10 ∷ 0 ∷ 0 ∷ 0 ∷ 1 ∷ 0 ∷ []); payload = payloads.From 64 } ∷ record { host = 6; target = 0; unit = 0; at = 3000000; tag = tags.Simple 6; cdb = (0 ∷ 0 ∷ 0 ∷ 0 ∷ 0 ∷ 0 ∷ []); payload = payloads.Nothing } ∷ [];
  aborts = record { host = 7; target = 0; unit = 0; at = 50000; what = aborts.WholeQueue } ∷ [];
  resets = [];
  faults = [];
}

abbrev pub queue_run_rows : List Row
queue_run_rows = drive 1200 7 0x00280 ∷ drive 1200 6 0x00240 ∷ drive 3600 7 0x00680 ∷ drive 3600 6 0x00000 ∷ drive 4800 7 0x10781 ∷ drive 4890 7 0x10581 ∷ drive 5290 0 0x00200 ∷ drive 5380 7 0x10000 ∷ drive 5380 0 0x02a00 ∷ drive 5780 0 0x06a00 ∷ drive 5780 7 0x101c0 ∷ drive 5835 7 0x181c0 ∷ drive 5835 0 0x02a00 ∷ drive 5835 7 0x10000 ∷ drive 5835 0 0x06a00 ∷ drive 5835 7 0x10020 ∷ drive 5890 7 0x18020 ∷ drive 5890 0 0x02a00 ∷ drive 5890 7 0x10000 ∷ drive 5890 0 0x06a00 ∷ drive 5890 7 0x00001 ∷ drive 5980 7 0x08001 ∷ drive 5980 0 0x02a00 ∷ drive 5980 7 0x00000 ∷ drive 5980 0 0x00a00 ∷ drive 6380 0 0x04a00 ∷ drive 6380 7 0x0010a ∷ drive 6435 7 0x0810a ∷ drive 6435 0 0x00a00 ∷ drive 6435 7 0x00000 ∷ drive 6435 0 0x04a00 ∷ drive 6435 7 0x00100 ∷ drive 6490 7 0x08100 ∷ drive 6490 0 0x00a00 ∷ drive 6490 7 0x00000 ∷ drive 6490 0 0x04a00 ∷ drive 6490 7 0x00100 ∷ drive 6545 7 0x08100 ∷ drive 6545 0 0x00a00 ∷ drive 6545 7 0x00000 ∷ drive 6545 0 0x04a00 ∷ drive 6545 7 0x00001 ∷ drive 6600 7 0x08001 ∷ drive 6600 0 0x00a00 ∷ drive 6600 7 0x00000 ∷ drive 6600 0 0x04a00 ∷ drive 6600 7 0x00001 ∷ drive 6655 7 0x08001 ∷ drive 6655 0 0x00a00 ∷ drive 6655 7 0x00000 ∷ drive 6655 0 0x04a00 ∷ drive 6655 7 0x00100 ∷ drive 6710 7 0x08100 ∷ drive 6710 0 0x00a00 ∷ drive 6710 7 0x00000 ∷ drive 6710 0 0x03a00 ∷ drive 7510 0 0x03a04 ∷ drive 7565 0 0x07a04 ∷ drive 7565 7 0x08000 ∷ drive 7565 0 0x03a00 ∷ drive 7565 7 0x00000 ∷ drive 7565 0 0x00000 ∷ drive 8765 6 0x00240 ∷ drive 11165 6 0x00640 ∷ drive 12365 6 0x10741 ∷ drive 12455 6 0x10541 ∷ drive 12855 0 0x00200 ∷ drive 12945 6 0x10000 ∷ drive 12945 0 0x02a00 ∷ drive 13345 0 0x06a00 ∷ drive 13345 6 0x101c0 ∷ drive 13400 6 0x181c0 ∷ drive 13400 0 0x02a00 ∷ drive 13400 6 0x10000 ∷ drive 13400 0 0x06a00 ∷ drive 13400 6 0x10020 ∷ drive 13455 6 0x18020 ∷ drive 13455 0 0x02a00 ∷ drive 13455 6 0x10000 ∷ drive 13455 0 0x06a00 ∷ drive 13455 6 0x00002 ∷ drive 13545 6 0x08002 ∷ drive 13545 0 0x02a00 ∷ drive 13545 6 0x00000 ∷ drive 13545 0 0x00a00 ∷ drive 13945 0 0x04a00 ∷ drive 13945 6 0x0010a ∷ drive 14000 6 0x0810a ∷ drive 14000 0 0x00a00 ∷ drive 14000 6 0x00000 ∷ drive 14000 0 0x04a00 ∷ drive 14000 6 0x00100 ∷ drive 14055 6 0x08100 ∷ drive 14055 0 0x00a00 ∷ drive 14055 6 0x00000 ∷ drive 14055 0 0x04a00 ∷ drive 14055 6 0x00100 ∷ drive 14110 6 0x08100 ∷ drive 14110 0 0x00a00 ∷ drive 14110 6 0x00000 ∷ drive 14110 0 0x04a00 ∷ drive 14110 6 0x00001 ∷ drive 14165 6 0x08001 ∷ drive 14165 0 0x00a00 ∷ drive 14165 6 0x00000 ∷ drive 14165 0 0x04a00 ∷ drive 14165 6 0x00001 ∷ drive 14220 6 0x08001 ∷ drive 14220 0 0x00a00 ∷ drive 14220 6 0x00000 ∷ drive 14220 0 0x04a00 ∷ drive 14220 6 0x00100 ∷ drive 14275 6 0x08100 ∷ drive 14275 0 0x00a00 ∷ drive 14275 6 0x00000 ∷ drive 14275 0 0x03a00 ∷ drive 15075 0 0x03a04 ∷ drive 15130 0 0x07a04 ∷ drive 15130 6 0x08000 ∷ drive 15130 0 0x03a00 ∷ drive 15130 6 0x00000 ∷ drive 15130 0 0x00000 ∷ drive 50000 7 0x00280 ∷ drive 52400 7 0x00680 ∷ drive 53600 7 0x10781 ∷ drive 53690 7 0x10581 ∷ drive 54090 0 0x00200 ∷ drive 54180 7 0x10000 ∷ drive 54180 0 0x02a00 ∷ drive 54580 0 0x06a00 ∷ drive 54580 7 0x10080 ∷ drive 54635 7 0x18080 ∷ drive 54635 0 0x02a00 ∷ drive 54635 7 0x10000 ∷ drive 54635 0 0x06a00 ∷ drive 54635 7 0x0000e ∷ drive 54725 7 0x0800e ∷ drive 54725 0 0x02a00 ∷ drive 54725 7 0x00000 ∷ drive 54725 0 0x00000 ∷ drive 100000 7 0x00280 ∷ drive 100000 6 0x00240 ∷ drive 102400 7 0x00680 ∷ drive 102400 6 0x00000 ∷ drive 103600 7 0x10781 ∷ drive 103690 7 0x10581 ∷ drive 104090 0 0x00200 ∷ drive 104180 7 0x10000 ∷ drive 104180 0 0x02a00 ∷ drive 104580 0 0x06a00 ∷ drive 104580 7 0x101c0 ∷ drive 104635 7 0x181c0 ∷ drive 104635 0 0x02a00 ∷ drive 104635 7 0x10000 ∷ drive 104635 0 0x06a00 ∷ drive 104635 7 0x10020 ∷ drive 104690 7 0x18020 ∷ drive 104690 0 0x02a00 ∷ drive 104690 7 0x10000 ∷ drive 104690 0 0x06a00 ∷ drive 104690 7 0x00103 ∷ drive 104780 7 0x08103 ∷ drive 104780 0 0x02a00 ∷ drive 104780 7 0x00000 ∷ drive 104780 0 0x00a00 ∷ drive 105180 0 0x04a00 ∷ drive 105180 7 0x0010a ∷ drive 105235 7 0x0810a ∷ drive 105235 0 0x00a00 ∷ drive 105235 7 0x00000 ∷ drive 105235 0 0x04a00 ∷ drive 105235 7 0x00100 ∷ drive 105290 7 0x08100 ∷ drive 105290 0 0x00a00 ∷ drive 105290 7 0x00000 ∷ drive 105290 0 0x04a00 ∷ drive 105290 7 0x00100 ∷ drive 105345 7 0x08100 ∷ drive 105345 0 0x00a00 ∷ drive 105345 7 0x00000 ∷ drive 105345 0 0x04a00 ∷ drive 105345 7 0x00100 ∷ drive 105400 7 0x08100 ∷ drive 105400 0 0x00a00 ∷ drive 105400 7 0x00000 ∷ drive 105400 0 0x04a00 ∷ drive 105400 7 0x00001 ∷ drive 105455 7 0x08001 ∷ drive 105455 0 0x00a00 ∷ drive 105455 7 0x00000 ∷ drive 105455 0 0x04a00 ∷ drive 105455 7 0x00100 ∷ drive 105510 7 0x08100 ∷ drive 105510 0 0x00a00 ∷ drive 105510 7 0x00000 ∷ drive 105510 0 0x03a00 ∷ drive 106310 0 0x03a04 ∷ drive 106365 0 0x07a04 ∷ drive 106365 7 0x08000 ∷ drive 106365 0 0x03a00 ∷ drive 106365 7 0x00000 ∷ drive 106365 0 0x00000 ∷ drive 107565 6 0x00240 ∷ drive 109965 6 0x00640 ∷ drive 111165 6 0x10741 ∷ drive 111255 6 0x10541 ∷ drive 111655 0 0x00200 ∷ drive 111745 6 0x10000 ∷ drive 111745 0 0x02a00 ∷ drive 112145 0 0x06a00 ∷ drive 112145 6 0x101c0 ∷ drive 112200 6 0x181c0 ∷ drive 112200 0 0x02a00 ∷ drive 112200 6 0x10000 ∷ drive 112200 0 0x06a00 ∷ drive 112200 6 0x10020 ∷ drive 112255 6 0x18020 ∷ drive 112255 0 0x02a00 ∷ drive 112255 6 0x10000 ∷ drive 112255 0 0x06a00 ∷ drive 112255 6 0x00004 ∷ drive 112345 6 0x08004 ∷ drive 112345 0 0x02a00 ∷ drive 112345 6 0x00000 ∷ drive 112345 0 0x00a00 ∷ drive 112745 0 0x04a00 ∷ drive 112745 6 0x00112 ∷ drive 112800 6 0x08112 ∷ drive 112800 0 0x00a00 ∷ drive 112800 6 0x00000 ∷ drive 112800 0 0x04a00 ∷ drive 112800 6 0x00100 ∷ drive 112855 6 0x08100 ∷ drive 112855 0 0x00a00 ∷ drive 112855 6 0x00000 ∷ drive 112855 0 0x04a00 ∷ drive 112855 6 0x00100 ∷ drive 112910 6 0x08100 ∷ drive 112910 0 0x00a00 ∷ drive 112910 6 0x00000 ∷ drive 112910 0 0x04a00 ∷ drive 112910 6 0x00100 ∷ drive 112965 6 0x08100 ∷ drive 112965 0 0x00a00 ∷ drive 112965 6 0x00000 ∷ drive 112965 0 0x04a00 ∷ drive 112965 6 0x00124 ∷ drive 113020 6 0x08124 ∷ drive 113020 0 0x00a00 ∷ drive 113020 6 0x00000 ∷ drive 113020 0 0x04a00 ∷ drive 113020 6 0x00100 ∷ drive 113075 6 0x08100 ∷ drive 113075 0 0x00a00 ∷ drive 113075 6 0x00000 ∷ drive 113075 0 0x03a00 ∷ drive 113875 0 0x03a04 ∷ drive 113930 0 0x07a04 ∷ drive 113930 6 0x08000 ∷ drive 113930 0 0x03a00 ∷ drive 113930 6 0x00000 ∷ drive 113930 0 0x00000 ∷ drive 1105510 0 0x00201 ∷ drive 1107910 0 0x00601 ∷ drive 1109110 0 0x01781 ∷ drive 1109200 0 0x01581 ∷ drive 1109600 7 0x00200 ∷ drive 1109600 0 0x01781 ∷ drive 1109690 0 0x03a80 ∷ drive 1109690 7 0x00000 ∷ drive 1110090 0 0x07a80 ∷ drive 1110090 7 0x08000 ∷ drive 1110090 0 0x03a20 ∷ drive 1110090 7 0x00000 ∷ drive 1110145 0 0x07a20 ∷ drive 1110145 7 0x08000 ∷ drive 1110145 0 0x03b03 ∷ drive 1110145 7 0x00000 ∷ drive 1110200 0 0x07b03 ∷ drive 1110200 7 0x08000 ∷ drive 1110200 0 0x03a00 ∷ drive 1110200 7 0x00000 ∷ drive 1110200 0 0x00200 ∷ drive 1110600 0 0x04200 ∷ drive 1110600 7 0x00130 ∷ drive 1110655 7 0x08130 ∷ drive 1110655 0 0x00200 ∷ drive 1110655 7 0x00000 ∷ drive 1110655 0 0x04200 ∷ drive 1110655 7 0x00031 ∷ drive 1110710 7 0x08031 ∷ drive 1110710 0 0x00200 ∷ drive 1110710 7 0x00000 ∷ drive 1110710 0 0x04200 ∷ drive 1110710 7 0x00032 ∷ drive 1110765 7 0x08032 ∷ drive 1110765 0 0x00200 ∷ drive 1110765 7 0x00000 ∷ drive 1110765 0 0x04200 ∷ drive 1110765 7 0x00133 ∷ drive 1110820 7 0x08133 ∷ drive 1110820 0 0x00200 ∷ drive 1110820 7 0x00000 ∷ drive 1110820 0 0x04200 ∷ drive 1110820 7 0x00034 ∷ drive 1110875 7 0x08034 ∷ drive 1110875 0 0x00200 ∷ drive 1110875 7 0x00000 ∷ drive 1110875 0 0x04200 ∷ drive 1110875 7 0x00135 ∷ drive 1110930 7 0x08135 ∷ drive 1110930 0 0x00200 ∷ drive 1110930 7 0x00000 ∷ drive 1110930 0 0x04200 ∷ drive 1110930 7 0x00136 ∷ drive 1110985 7 0x08136 ∷ drive 1110985 0 0x00200 ∷ drive 1110985 7 0x00000 ∷ drive 1110985 0 0x04200 ∷ drive 1110985 7 0x00037 ∷ drive 1111040 7 0x08037 ∷ drive 1111040 0 0x00200 ∷ drive 1111040 7 0x00000 ∷ drive 1111040 0 0x04200 ∷ drive 1111040 7 0x00038 ∷ drive 1111095 7 0x08038 ∷ drive 1111095 0 0x00200 ∷ drive 1111095 7 0x00000 ∷ drive 1111095 0 0x04200 ∷ drive 1111095 7 0x00139 ∷ drive 1111150 7 0x08139 ∷ drive 1111150 0 0x00200 ∷ drive 1111150 7 0x00000 ∷ drive 1111150 0 0x04200 ∷ drive 1111150 7 0x0013a ∷ drive 1111205 7 0x0813a ∷ drive 1111205 0 0x00200 ∷ drive 1111205 7 0x00000 ∷ drive 1111205 0 0x04200 ∷ drive 1111205 7 0x0003b ∷ drive 1111260 7 0x0803b ∷ drive 1111260 0 0x00200 ∷ drive 1111260 7 0x00000 ∷ drive 1111260 0 0x04200 ∷ drive 1111260 7 0x0013c ∷ drive 1111315 7 0x0813c ∷ drive 1111315 0 0x00200 ∷ drive 1111315 7 0x00000 ∷ drive 1111315 0 0x04200 ∷ drive 1111315 7 0x0003d ∷ drive 1111370 7 0x0803d ∷ drive 1111370 0 0x00200 ∷ drive 1111370 7 0x00000 ∷ drive 1111370 0 0x04200 ∷ drive 1111370 7 0x0003e ∷ drive 1111425 7 0x0803e ∷ drive 1111425 0 0x00200 ∷ drive 1111425 7 0x00000 ∷ drive 1111425 0 0x04200 ∷ drive 1111425 7 0x0013f ∷ drive 1111480 7 0x0813f ∷ drive 1111480 0 0x00200 ∷ drive 1111480 7 0x00000 ∷ drive 1111480 0 0x01a00 ∷ drive 1112280 0 0x01b00 ∷ drive 1112335 0 0x05b00 ∷ drive 1112335 7 0x08000 ∷ drive 1112335 0 0x01a00 ∷ drive 1112335 7 0x00000 ∷ drive 1112335 0 0x03b00 ∷ drive 1112735 0 0x07b00 ∷ drive 1112735 7 0x08000 ∷ drive 1112735 0 0x03a00 ∷ drive 1112735 7 0x00000 ∷ drive 1112735 0 0x00000 ∷ drive 2000000 6 0x00240 ∷ drive 2002400 6 0x00640 ∷ drive 2003600 6 0x10741 ∷ drive 2003690 6 0x10541 ∷ drive 2004090 0 0x00200 ∷ drive 2004180 6 0x10000 ∷ drive 2004180 0 0x02a00 ∷ drive 2004580 0 0x06a00 ∷ drive 2004580 6 0x101c0 ∷ drive 2004635 6 0x181c0 ∷ drive 2004635 0 0x02a00 ∷ drive 2004635 6 0x10000 ∷ drive 2004635 0 0x06a00 ∷ drive 2004635 6 0x10020 ∷ drive 2004690 6 0x18020 ∷ drive 2004690 0 0x02a00 ∷ drive 2004690 6 0x10000 ∷ drive 2004690 0 0x06a00 ∷ drive 2004690 6 0x00105 ∷ drive 2004780 6 0x08105 ∷ drive 2004780 0 0x02a00 ∷ drive 2004780 6 0x00000 ∷ drive 2004780 0 0x00a00 ∷ drive 2005180 0 0x04a00 ∷ drive 2005180 6 0x0010a ∷ drive 2005235 6 0x0810a ∷ drive 2005235 0 0x00a00 ∷ drive 2005235 6 0x00000 ∷ drive 2005235 0 0x04a00 ∷ drive 2005235 6 0x00100 ∷ drive 2005290 6 0x08100 ∷ drive 2005290 0 0x00a00 ∷ drive 2005290 6 0x00000 ∷ drive 2005290 0 0x04a00 ∷ drive 2005290 6 0x00100 ∷ drive 2005345 6 0x08100 ∷ drive 2005345 0 0x00a00 ∷ drive 2005345 6 0x00000 ∷ drive 2005345 0 0x04a00 ∷ drive 2005345 6 0x00100 ∷ drive 2005400 6 0x08100 ∷ drive 2005400 0 0x00a00 ∷ drive 2005400 6 0x00000 ∷ drive 2005400 0 0x04a00 ∷ drive 2005400 6 0x00001 ∷ drive 2005455 6 0x08001 ∷ drive 2005455 0 0x00a00 ∷ drive 2005455 6 0x00000 ∷ drive 2005455 0 0x04a00 ∷ drive 2005455 6 0x00100 ∷ drive 2005510 6 0x08100 ∷ drive 2005510 0 0x00a00 ∷ drive 2005510 6 0x00000 ∷ drive 2005510 0 0x03a00 ∷ drive 2006310 0 0x03a04 ∷ drive 2006365 0 0x07a04 ∷ drive 2006365 6 0x08000 ∷ drive 2006365 0 0x03a00 ∷ drive 2006365 6 0x00000 ∷ drive 2006365 0 0x00000 ∷ drive 2112735 0 0x00201 ∷ drive 2115135 0 0x00601 ∷ drive 2116335 0 0x01741 ∷ drive 2116425 0 0x01541 ∷ drive 2116825 6 0x00200 ∷ drive 2116825 0 0x01741 ∷ drive 2116915 0 0x03a80 ∷ drive 2116915 6 0x00000 ∷ drive 2117315 0 0x07a80 ∷ drive 2117315 6 0x08000 ∷ drive 2117315 0 0x03a20 ∷ drive 2117315 6 0x00000 ∷ drive 2117370 0 0x07a20 ∷ drive 2117370 6 0x08000 ∷ drive 2117370 0 0x03a04 ∷ drive 2117370 6 0x00000 ∷ drive 2117425 0 0x07a04 ∷ drive 2117425 6 0x08000 ∷ drive 2117425 0 0x03a00 ∷ drive 2117425 6 0x00000 ∷ drive 2117425 0 0x01300 ∷ drive 2117825 0 0x05300 ∷ drive 2117825 6 0x08000 ∷ drive 2117825 0 0x01300 ∷ drive 2117825 6 0x00000 ∷ drive 2117880 0 0x05300 ∷ drive 2117880 6 0x08000 ∷ drive 2117880 0 0x01202 ∷ drive 2117880 6 0x00000 ∷ drive 2117935 0 0x05202 ∷ drive 2117935 6 0x08000 ∷ drive 2117935 0 0x01202 ∷ drive 2117935 6 0x00000 ∷ drive 2117990 0 0x05202 ∷ drive 2117990 6 0x08000 ∷ drive 2117990 0 0x0121f ∷ drive 2117990 6 0x00000 ∷ drive 2118045 0 0x0521f ∷ drive 2118045 6 0x08000 ∷ drive 2118045 0 0x01300 ∷ drive 2118045 6 0x00000 ∷ drive 2118100 0 0x05300 ∷ drive 2118100 6 0x08000 ∷ drive 2118100 0 0x01300 ∷ drive 2118100 6 0x00000 ∷ drive 2118155 0 0x05300 ∷ drive 2118155 6 0x08000 ∷ drive 2118155 0 0x01312 ∷ drive 2118155 6 0x00000 ∷ drive 2118210 0 0x05312 ∷ drive 2118210 6 0x08000 ∷ drive 2118210 0 0x01342 ∷ drive 2118210 6 0x00000 ∷ drive 2118265 0 0x05342 ∷ drive 2118265 6 0x08000 ∷ drive 2118265 0 0x01355 ∷ drive 2118265 6 0x00000 ∷ drive 2118320 0 0x05355 ∷ drive 2118320 6 0x08000 ∷ drive 2118320 0 0x01353 ∷ drive 2118320 6 0x00000 ∷ drive 2118375 0 0x05353 ∷ drive 2118375 6 0x08000 ∷ drive 2118375 0 0x0134d ∷ drive 2118375 6 0x00000 ∷ drive 2118430 0 0x0534d ∷ drive 2118430 6 0x08000 ∷ drive 2118430 0 0x0124f ∷ drive 2118430 6 0x00000 ∷ drive 2118485 0 0x0524f ∷ drive 2118485 6 0x08000 ∷ drive 2118485 0 0x01344 ∷ drive 2118485 6 0x00000 ∷ drive 2118540 0 0x05344 ∷ drive 2118540 6 0x08000 ∷ drive 2118540 0 0x01245 ∷ drive 2118540 6 0x00000 ∷ drive 2118595 0 0x05245 ∷ drive 2118595 6 0x08000 ∷ drive 2118595 0 0x0124c ∷ drive 2118595 6 0x00000 ∷ drive 2118650 0 0x0524c ∷ drive 2118650 6 0x08000 ∷ drive 2118650 0 0x01353 ∷ drive 2118650 6 0x00000 ∷ drive 2118705 0 0x05353 ∷ drive 2118705 6 0x08000 ∷ drive 2118705 0 0x01249 ∷ drive 2118705 6 0x00000 ∷ drive 2118760 0 0x05249 ∷ drive 2118760 6 0x08000 ∷ drive 2118760 0 0x0134d ∷ drive 2118760 6 0x00000 ∷ drive 2118815 0 0x0534d ∷ drive 2118815 6 0x08000 ∷ drive 2118815 0 0x01355 ∷ drive 2118815 6 0x00000 ∷ drive 2118870 0 0x05355 ∷ drive 2118870 6 0x08000 ∷ drive 2118870 0 0x0124c ∷ drive 2118870 6 0x00000 ∷ drive 2118925 0 0x0524c ∷ drive 2118925 6 0x08000 ∷ drive 2118925 0 0x01341 ∷ drive 2118925 6 0x00000 ∷ drive 2118980 0 0x05341 ∷ drive 2118980 6 0x08000 ∷ drive 2118980 0 0x01254 ∷ drive 2118980 6 0x00000 ∷ drive 2119035 0 0x05254 ∷ drive 2119035 6 0x08000 ∷ drive 2119035 0 0x01245 ∷ drive 2119035 6 0x00000 ∷ drive 2119090 0 0x05245 ∷ drive 2119090 6 0x08000 ∷ drive 2119090 0 0x01344 ∷ drive 2119090 6 0x00000 ∷ drive 2119145 0 0x05344 ∷ drive 2119145 6 0x08000 ∷ drive 2119145 0 0x01220 ∷ drive 2119145 6 0x00000 ∷ drive 2119200 0 0x05220 ∷ drive 2119200 6 0x08000 ∷ drive 2119200 0 0x01344 ∷ drive 2119200 6 0x00000 ∷ drive 2119255 0 0x05344 ∷ drive 2119255 6 0x08000 ∷ drive 2119255 0 0x01249 ∷ drive 2119255 6 0x00000 ∷ drive 2119310 0 0x05249 ∷ drive 2119310 6 0x08000 ∷ drive 2119310 0 0x01353 ∷ drive 2119310 6 0x00000 ∷ drive 2119365 0 0x05353 ∷ drive 2119365 6 0x08000 ∷ drive 2119365 0 0x0134b ∷ drive 2119365 6 0x00000 ∷ drive 2119420 0 0x0534b ∷ drive 2119420 6 0x08000 ∷ drive 2119420 0 0x01220 ∷ drive 2119420 6 0x00000 ∷ drive 2119475 0 0x05220 ∷ drive 2119475 6 0x08000 ∷ drive 2119475 0 0x01220 ∷ drive 2119475 6 0x00000 ∷ drive 2119530 0 0x05220 ∷ drive 2119530 6 0x08000 ∷ drive 2119530 0 0x01330 ∷ drive 2119530 6 0x00000 ∷ drive 2119585 0 0x05330 ∷ drive 2119585 6 0x08000 ∷ drive 2119585 0 0x01330 ∷ drive 2119585 6 0x00000 ∷ drive 2119640 0 0x05330 ∷ drive 2119640 6 0x08000 ∷ drive 2119640 0 0x01330 ∷ drive 2119640 6 0x00000 ∷ drive 2119695 0 0x05330 ∷ drive 2119695 6 0x08000 ∷ drive 2119695 0 0x01231 ∷ drive 2119695 6 0x00000 ∷ drive 2119750 0 0x05231 ∷ drive 2119750 6 0x08000 ∷ drive 2119750 0 0x01200 ∷ drive 2119750 6 0x00000 ∷ drive 2119750 0 0x01b00 ∷ drive 2120150 0 0x05b00 ∷ drive 2120150 6 0x08000 ∷ drive 2120150 0 0x01a00 ∷ drive 2120150 6 0x00000 ∷ drive 2120150 0 0x03b00 ∷ drive 2120550 0 0x07b00 ∷ drive 2120550 6 0x08000 ∷ drive 2120550 0 0x03a00 ∷ drive 2120550 6 0x00000 ∷ drive 2120550 0 0x00000 ∷ drive 3000000 6 0x00240 ∷ drive 3002400 6 0x00640 ∷ drive 3003600 6 0x10741 ∷ drive 3003690 6 0x10541 ∷ drive 3004090 0 0x00200 ∷ drive 3004180 6 0x10000 ∷ drive 3004180 0 0x02a00 ∷ drive 3004580 0 0x06a00 ∷ drive 3004580 6 0x101c0 ∷ drive 3004635 6 0x181c0 ∷ drive 3004635 0 0x02a00 ∷ drive 3004635 6 0x10000 ∷ drive 3004635 0 0x06a00 ∷ drive 3004635 6 0x10020 ∷ drive 3004690 6 0x18020 ∷ drive 3004690 0 0x02a00 ∷ drive 3004690 6 0x10000 ∷ drive 3004690 0 0x06a00 ∷ drive 3004690 6 0x00106 ∷ drive 3004780 6 0x08106 ∷ drive 3004780 0 0x02a00 ∷ drive 3004780 6 0x00000 ∷ drive 3004780 0 0x00a00 ∷ drive 3005180 0 0x04a00 ∷ drive 3005180 6 0x00100 ∷ drive 3005235 6 0x08100 ∷ drive 3005235 0 0x00a00 ∷ drive 3005235 6 0x00000 ∷ drive 3005235 0 0x04a00 ∷ drive 3005235 6 0x00100 ∷ drive 3005290 6 0x08100 ∷ drive 3005290 0 0x00a00 ∷ drive 3005290 6 0x00000 ∷ drive 3005290 0 0x04a00 ∷ drive 3005290 6 0x00100 ∷ drive 3005345 6 0x08100 ∷ drive 3005345 0 0x00a00 ∷ drive 3005345 6 0x00000 ∷ drive 3005345 0 0x04a00 ∷ drive 3005345 6 0x00100 ∷ drive 3005400 6 0x08100 ∷ drive 3005400 0 0x00a00 ∷ drive 3005400 6 0x00000 ∷ drive 3005400 0 0x04a00 ∷ drive 3005400 6 0x00100 ∷ drive 3005455 6 0x08100 ∷ drive 3005455 0 0x00a00 ∷ drive 3005455 6 0x00000 ∷ drive 3005455 0 0x04a00 ∷ drive 3005455 6 0x00100 ∷ drive 3005510 6 0x08100 ∷ drive 3005510 0 0x00a00 ∷ drive 3005510 6 0x00000 ∷ drive 3005510 0 0x03a00 ∷ drive 3006310 0 0x03a04 ∷ drive 3006365 0 0x07a04 ∷ drive 3006365 6 0x08000 ∷ drive 3006365 0 0x03a00 ∷ drive 3006365 6 0x00000 ∷ drive 3006365 0 0x00000 ∷ drive 3120550 0 0x00201 ∷ drive 3122950 0 0x00601 ∷ drive 3124150 0 0x01741 ∷ drive 3124240 0 0x01541 ∷ drive 3124640 6 0x00200 ∷ drive 3124640 0 0x01741 ∷ drive 3124730 0 0x03a80 ∷ drive 3124730 6 0x00000 ∷ drive 3125130 0 0x07a80 ∷ drive 3125130 6 0x08000 ∷ drive 3125130 0 0x03a20 ∷ drive 3125130 6 0x00000 ∷ drive 3125185 0 0x07a20 ∷ drive 3125185 6 0x08000 ∷ drive 3125185 0 0x03b05 ∷ drive 3125185 6 0x00000 ∷ drive 3125240 0 0x07b05 ∷ drive 3125240 6 0x08000 ∷ drive 3125240 0 0x03a00 ∷ drive 3125240 6 0x00000 ∷ drive 3125240 0 0x01a02 ∷ drive 3125640 0 0x05a02 ∷ drive 3125640 6 0x08000 ∷ drive 3125640 0 0x01a00 ∷ drive 3125640 6 0x00000 ∷ drive 3125640 0 0x03b00 ∷ drive 3126040 0 0x07b00 ∷ drive 3126040 6 0x08000 ∷ drive 3126040 0 0x03a00 ∷ drive 3126040 6 0x00000 ∷ drive 3126040 0 0x00000 ∷ drive 3127240 6 0x00240 ∷ drive 3129640 6 0x00640 ∷ drive 3130840 6 0x10741 ∷ drive 3130930 6 0x10541 ∷ drive 3131330 0 0x00200 ∷ drive 3131420 6 0x10000 ∷ drive 3131420 0 0x02a00 ∷ drive 3131820 0 0x06a00 ∷ drive 3131820 6 0x00080 ∷ drive 3131910 6 0x08080 ∷ drive 3131910 0 0x02a00 ∷ drive 3131910 6 0x00000 ∷ drive 3131910 0 0x00a00 ∷ drive 3132310 0 0x04a00 ∷ drive 3132310 6 0x00103 ∷ drive 3132365 6 0x08103 ∷ drive 3132365 0 0x00a00 ∷ drive 3132365 6 0x00000 ∷ drive 3132365 0 0x04a00 ∷ drive 3132365 6 0x00100 ∷ drive 3132420 6 0x08100 ∷ drive 3132420 0 0x00a00 ∷ drive 3132420 6 0x00000 ∷ drive 3132420 0 0x04a00 ∷ drive 3132420 6 0x00100 ∷ drive 3132475 6 0x08100 ∷ drive 3132475 0 0x00a00 ∷ drive 3132475 6 0x00000 ∷ drive 3132475 0 0x04a00 ∷ drive 3132475 6 0x00100 ∷ drive 3132530 6 0x08100 ∷ drive 3132530 0 0x00a00 ∷ drive 3132530 6 0x00000 ∷ drive 3132530 0 0x04a00 ∷ drive 3132530 6 0x00112 ∷ drive 3132585 6 0x08112 ∷ drive 3132585 0 0x00a00 ∷ drive 3132585 6 0x00000 ∷ drive 3132585 0 0x04a00 ∷ drive 3132585 6 0x00100 ∷ drive 3132640 6 0x08100 ∷ drive 3132640 0 0x00a00 ∷ drive 3132640 6 0x00000 ∷ drive 3132640 0 0x01200 ∷ drive 3133440 0 0x01270 ∷ drive 3133495 0 0x05270 ∷ drive 3133495 6 0x08000 ∷ drive 3133495 0 0x01300 ∷ drive 3133495 6 0x00000 ∷ drive 3133550 0 0x05300 ∷ drive 3133550 6 0x08000 ∷ drive 3133550 0 0x01306 ∷ drive 3133550 6 0x00000 ∷ drive 3133605 0 0x05306 ∷ drive 3133605 6 0x08000 ∷ drive 3133605 0 0x01300 ∷ drive 3133605 6 0x00000 ∷ drive 3133660 0 0x05300 ∷ drive 3133660 6 0x08000 ∷ drive 3133660 0 0x01300 ∷ drive 3133660 6 0x00000 ∷ drive 3133715 0 0x05300 ∷ drive 3133715 6 0x08000 ∷ drive 3133715 0 0x01300 ∷ drive 3133715 6 0x00000 ∷ drive 3133770 0 0x05300 ∷ drive 3133770 6 0x08000 ∷ drive 3133770 0 0x01300 ∷ drive 3133770 6 0x00000 ∷ drive 3133825 0 0x05300 ∷ drive 3133825 6 0x08000 ∷ drive 3133825 0 0x0130a ∷ drive 3133825 6 0x00000 ∷ drive 3133880 0 0x0530a ∷ drive 3133880 6 0x08000 ∷ drive 3133880 0 0x01300 ∷ drive 3133880 6 0x00000 ∷ drive 3133935 0 0x05300 ∷ drive 3133935 6 0x08000 ∷ drive 3133935 0 0x01300 ∷ drive 3133935 6 0x00000 ∷ drive 3133990 0 0x05300 ∷ drive 3133990 6 0x08000 ∷ drive 3133990 0 0x01300 ∷ drive 3133990 6 0x00000 ∷ drive 3134045 0 0x05300 ∷ drive 3134045 6 0x08000 ∷ drive 3134045 0 0x01300 ∷ drive 3134045 6 0x00000 ∷ drive 3134100 0 0x05300 ∷ drive 3134100 6 0x08000 ∷ drive 3134100 0 0x0122f ∷ drive 3134100 6 0x00000 ∷ drive 3134155 0 0x0522f ∷ drive 3134155 6 0x08000 ∷ drive 3134155 0 0x01300 ∷ drive 3134155 6 0x00000 ∷ drive 3134210 0 0x05300 ∷ drive 3134210 6 0x08000 ∷ drive 3134210 0 0x01300 ∷ drive 3134210 6 0x00000 ∷ drive 3134265 0 0x05300 ∷ drive 3134265 6 0x08000 ∷ drive 3134265 0 0x01300 ∷ drive 3134265 6 0x00000 ∷ drive 3134320 0 0x05300 ∷ drive 3134320 6 0x08000 ∷ drive 3134320 0 0x01300 ∷ drive 3134320 6 0x00000 ∷ drive 3134375 0 0x05300 ∷ drive 3134375 6 0x08000 ∷ drive 3134375 0 0x01300 ∷ drive 3134375 6 0x00000 ∷ drive 3134430 0 0x05300 ∷ drive 3134430 6 0x08000 ∷ drive 3134430 0 0x01200 ∷ drive 3134430 6 0x00000 ∷ drive 3134430 0 0x01b00 ∷ drive 3134830 0 0x05b00 ∷ drive 3134830 6 0x08000 ∷ drive 3134830 0 0x01a00 ∷ drive 3134830 6 0x00000 ∷ drive 3134830 0 0x03b00 ∷ drive 3135230 0 0x07b00 ∷ drive 3135230 6 0x08000 ∷ drive 3135230 0 0x03a00 ∷ drive 3135230 6 0x00000 ∷ drive 3135230 0 0x00000 ∷ drive 4135230 0 0x00201 ∷ drive 4137630 0 0x00601 ∷ drive 4138830 0 0x01741 ∷ drive 4138920 0 0x01541 ∷ drive 4139320 6 0x00200 ∷ drive 4139320 0 0x01741 ∷ drive 4139410 0 0x03a80 ∷ drive 4139410 6 0x00000 ∷ drive 4139810 0 0x07a80 ∷ drive 4139810 6 0x08000 ∷ drive 4139810 0 0x03a20 ∷ drive 4139810 6 0x00000 ∷ drive 4139865 0 0x07a20 ∷ drive 4139865 6 0x08000 ∷ drive 4139865 0 0x03b06 ∷ drive 4139865 6 0x00000 ∷ drive 4139920 0 0x07b06 ∷ drive 4139920 6 0x08000 ∷ drive 4139920 0 0x03a00 ∷ drive 4139920 6 0x00000 ∷ drive 4139920 0 0x01b00 ∷ drive 4140320 0 0x05b00 ∷ drive 4140320 6 0x08000 ∷ drive 4140320 0 0x01a00 ∷ drive 4140320 6 0x00000 ∷ drive 4140320 0 0x03b00 ∷ drive 4140720 0 0x07b00 ∷ drive 4140720 6 0x08000 ∷ drive 4140720 0 0x03a00 ∷ drive 4140720 6 0x00000 ∷ drive 4140720 0 0x00000 ∷ []

abbrev queue_run_events : List Event
queue_run_events = events.Accept (command 1) ∷ events.Accept (command 2) ∷ events.Aborted 7 0 0 aborts.WholeQueue ∷ events.Accept (command 3) ∷ events.Accept (command 4) ∷ events.Run (command 3) ∷ events.End (command 3) 0 ∷ events.Accept (command 5) ∷ events.Run (command 4) ∷ events.End (command 4) 0 ∷ events.Accept (command 6) ∷ events.Run (command 5) ∷ events.End (command 5) 2 ∷ events.Accept (sense 5) ∷ events.Run (sense 5) ∷ events.End (sense 5) 0 ∷ events.Run (command 6) ∷ events.End (command 6) 0 ∷ []

queue_run_told : shown queue_run (story queue_run (reverse queue_run_rows)) (reverse queue_run_events) ≡ record { history = reverse queue_run_events; ends = Some (ended_aborted) ∷ Some (ended_aborted) ∷ Some (ended_good ([])) ∷ Some (ended_good (0 ∷ 0 ∷ 2 ∷ 2 ∷ 31 ∷ 0 ∷ 0 ∷ 18 ∷ 66 ∷ 85 ∷ 83 ∷ 77 ∷ 79 ∷ 68 ∷ 69 ∷ 76 ∷ 83 ∷ 73 ∷ 77 ∷ 85 ∷ 76 ∷ 65 ∷ 84 ∷ 69 ∷ 68 ∷ 32 ∷ 68 ∷ 73 ∷ 83 ∷ 75 ∷ 32 ∷ 32 ∷ 48 ∷ 48 ∷ 48 ∷ 49 ∷ [])) ∷ Some (ended_check (Some (sense_of 6 47 0))) ∷ Some (ended_good ([])) ∷ []; carried = true }
unfolding need_of sent_of ones union_below line_of form_out form_in
queue_run_told = refl

-- ---- range_past_the_last_run

abbrev range_past_the_last_run : ScenarioValue
range_past_the_last_run = record {
  version = 1;
  hosts = record { dev = 7; latency = 0; most = 1; retries = 2; period = 0; offset = 0; lag = 0; offers = true } ∷ [];
  targets = record { dev = 0; latency = 0; retries = 2; disc = policies.Never; pick = picks.First; seek = 0; period = 0; offset = 0; begins = false } ∷ [];
  units = record { target = 0; unit = 0; blocks = 4294967296; size = 512; depth = 1 } ∷ [];
  fills = [];
  tapes = [];
  loads = [];
  commands = record { host = 7; target = 0; unit = 0; at = 0; tag = tags.Untagged; cdb = (40 ∷ 0 ∷ 255 ∷ 255 ∷ 255 ∷ 255 ∷ 0 ∷ 0 ∷ 2 ∷ 0 ∷ []); payload = payloads.Nothing } ∷ [];
  aborts = [];
  resets = [];
  faults = [];
}

abbrev pub range_past_the_last_run_rows : List Row
range_past_the_last_run_rows = drive 1200 7 0x00280 ∷ drive 3600 7 0x00680 ∷ drive 4800 7 0x10781 ∷ drive 4890 7 0x10581 ∷ drive 5290 0 0x00200 ∷ drive 5380 7 0x10000 ∷ drive 5380 0 0x02a00 ∷ drive 5780 0 0x06a00 ∷ drive 5780 7 0x001c0 ∷ drive 5870 7 0x081c0 ∷ drive 5870 0 0x02a00 ∷ drive 5870 7 0x00000 ∷ drive 5870 0 0x00a00 ∷ drive 6270 0 0x04a00 ∷ drive 6270 7 0x00128 ∷ drive 6325 7 0x08128 ∷ drive 6325 0 0x00a00 ∷ drive 6325 7 0x00000 ∷ drive 6325 0 0x04a00 ∷ drive 6325 7 0x00100 ∷ drive 6380 7 0x08100 ∷ drive 6380 0 0x00a00 ∷ drive 6380 7 0x00000 ∷ drive 6380 0 0x04a00 ∷ drive 6380 7 0x001ff ∷ drive 6435 7 0x081ff ∷ drive 6435 0 0x00a00 ∷ drive 6435 7 0x00000 ∷ drive 6435 0 0x04a00 ∷ drive 6435 7 0x001ff ∷ drive 6490 7 0x081ff ∷ drive 6490 0 0x00a00 ∷ drive 6490 7 0x00000 ∷ drive 6490 0 0x04a00 ∷ drive 6490 7 0x001ff ∷ drive 6545 7 0x081ff ∷ drive 6545 0 0x00a00 ∷ drive 6545 7 0x00000 ∷ drive 6545 0 0x04a00 ∷ drive 6545 7 0x001ff ∷ drive 6600 7 0x081ff ∷ drive 6600 0 0x00a00 ∷ drive 6600 7 0x00000 ∷ drive 6600 0 0x04a00 ∷ drive 6600 7 0x00100 ∷ drive 6655 7 0x08100 ∷ drive 6655 0 0x00a00 ∷ drive 6655 7 0x00000 ∷ drive 6655 0 0x04a00 ∷ drive 6655 7 0x00100 ∷ drive 6710 7 0x08100 ∷ drive 6710 0 0x00a00 ∷ drive 6710 7 0x00000 ∷ drive 6710 0 0x04a00 ∷ drive 6710 7 0x00002 ∷ drive 6765 7 0x08002 ∷ drive 6765 0 0x00a00 ∷ drive 6765 7 0x00000 ∷ drive 6765 0 0x04a00 ∷ drive 6765 7 0x00100 ∷ drive 6820 7 0x08100 ∷ drive 6820 0 0x00a00 ∷ drive 6820 7 0x00000 ∷ drive 6820 0 0x01a00 ∷ drive 7620 0 0x01a02 ∷ drive 7675 0 0x05a02 ∷ drive 7675 7 0x08000 ∷ drive 7675 0 0x01a00 ∷ drive 7675 7 0x00000 ∷ drive 7675 0 0x03b00 ∷ drive 8075 0 0x07b00 ∷ drive 8075 7 0x08000 ∷ drive 8075 0 0x03a00 ∷ drive 8075 7 0x00000 ∷ drive 8075 0 0x00000 ∷ drive 9275 7 0x00280 ∷ drive 11675 7 0x00680 ∷ drive 12875 7 0x10781 ∷ drive 12965 7 0x10581 ∷ drive 13365 0 0x00200 ∷ drive 13455 7 0x10000 ∷ drive 13455 0 0x02a00 ∷ drive 13855 0 0x06a00 ∷ drive 13855 7 0x00080 ∷ drive 13945 7 0x08080 ∷ drive 13945 0 0x02a00 ∷ drive 13945 7 0x00000 ∷ drive 13945 0 0x00a00 ∷ drive 14345 0 0x04a00 ∷ drive 14345 7 0x00103 ∷ drive 14400 7 0x08103 ∷ drive 14400 0 0x00a00 ∷ drive 14400 7 0x00000 ∷ drive 14400 0 0x04a00 ∷ drive 14400 7 0x00100 ∷ drive 14455 7 0x08100 ∷ drive 14455 0 0x00a00 ∷ drive 14455 7 0x00000 ∷ drive 14455 0 0x04a00 ∷ drive 14455 7 0x00100 ∷ drive 14510 7 0x08100 ∷ drive 14510 0 0x00a00 ∷ drive 14510 7 0x00000 ∷ drive 14510 0 0x04a00 ∷ drive 14510 7 0x00100 ∷ drive 14565 7 0x08100 ∷ drive 14565 0 0x00a00 ∷ drive 14565 7 0x00000 ∷ drive 14565 0 0x04a00 ∷ drive 14565 7 0x00112 ∷ drive 14620 7 0x08112 ∷ drive 14620 0 0x00a00 ∷ drive 14620 7 0x00000 ∷ drive 14620 0 0x04a00 ∷ drive 14620 7 0x00100 ∷ drive 14675 7 0x08100 ∷ drive 14675 0 0x00a00 ∷ drive 14675 7 0x00000 ∷ drive 14675 0 0x01200 ∷ drive 15475 0 0x01270 ∷ drive 15530 0 0x05270 ∷ drive 15530 7 0x08000 ∷ drive 15530 0 0x01300 ∷ drive 15530 7 0x00000 ∷ drive 15585 0 0x05300 ∷ drive 15585 7 0x08000 ∷ drive 15585 0 0x01305 ∷ drive 15585 7 0x00000 ∷ drive 15640 0 0x05305 ∷ drive 15640 7 0x08000 ∷ drive 15640 0 0x01300 ∷ drive 15640 7 0x00000 ∷ drive 15695 0 0x05300 ∷ drive 15695 7 0x08000 ∷ drive 15695 0 0x01300 ∷ drive 15695 7 0x00000 ∷ drive 15750 0 0x05300 ∷ drive 15750 7 0x08000 ∷ drive 15750 0 0x01300 ∷ drive 15750 7 0x00000 ∷ drive 15805 0 0x05300 ∷ drive 15805 7 0x08000 ∷ drive 15805 0 0x01300 ∷ drive 15805 7 0x00000 ∷ drive 15860 0 0x05300 ∷ drive 15860 7 0x08000 ∷ drive 15860 0 0x0130a ∷ drive 15860 7 0x00000 ∷ drive 15915 0 0x0530a ∷ drive 15915 7 0x08000 ∷ drive 15915 0 0x01300 ∷ drive 15915 7 0x00000 ∷ drive 15970 0 0x05300 ∷ drive 15970 7 0x08000 ∷ drive 15970 0 0x01300 ∷ drive 15970 7 0x00000 ∷ drive 16025 0 0x05300 ∷ drive 16025 7 0x08000 ∷ drive 16025 0 0x01300 ∷ drive 16025 7 0x00000 ∷ drive 16080 0 0x05300 ∷ drive 16080 7 0x08000 ∷ drive 16080 0 0x01300 ∷ drive 16080 7 0x00000 ∷ drive 16135 0 0x05300 ∷ drive 16135 7 0x08000 ∷ drive 16135 0 0x01321 ∷ drive 16135 7 0x00000 ∷ drive 16190 0 0x05321 ∷ drive 16190 7 0x08000 ∷ drive 16190 0 0x01300 ∷ drive 16190 7 0x00000 ∷ drive 16245 0 0x05300 ∷ drive 16245 7 0x08000 ∷ drive 16245 0 0x01300 ∷ drive 16245 7 0x00000 ∷ drive 16300 0 0x05300 ∷ drive 16300 7 0x08000 ∷ drive 16300 0 0x01300 ∷ drive 16300 7 0x00000 ∷ drive 16355 0 0x05300 ∷ drive 16355 7 0x08000 ∷ drive 16355 0 0x01300 ∷ drive 16355 7 0x00000 ∷ drive 16410 0 0x05300 ∷ drive 16410 7 0x08000 ∷ drive 16410 0 0x01300 ∷ drive 16410 7 0x00000 ∷ drive 16465 0 0x05300 ∷ drive 16465 7 0x08000 ∷ drive 16465 0 0x01200 ∷ drive 16465 7 0x00000 ∷ drive 16465 0 0x01b00 ∷ drive 16865 0 0x05b00 ∷ drive 16865 7 0x08000 ∷ drive 16865 0 0x01a00 ∷ drive 16865 7 0x00000 ∷ drive 16865 0 0x03b00 ∷ drive 17265 0 0x07b00 ∷ drive 17265 7 0x08000 ∷ drive 17265 0 0x03a00 ∷ drive 17265 7 0x00000 ∷ drive 17265 0 0x00000 ∷ []

abbrev range_past_the_last_run_events : List Event
range_past_the_last_run_events = events.Accept (command 1) ∷ events.Run (command 1) ∷ events.End (command 1) 2 ∷ events.Accept (sense 1) ∷ events.Run (sense 1) ∷ events.End (sense 1) 0 ∷ []

range_past_the_last_run_told : shown range_past_the_last_run (story range_past_the_last_run (reverse range_past_the_last_run_rows)) (reverse range_past_the_last_run_events) ≡ record { history = reverse range_past_the_last_run_events; ends = Some (ended_check (Some (sense_of 5 33 0))) ∷ []; carried = true }
unfolding need_of sent_of ones union_below line_of form_out form_in
range_past_the_last_run_told = refl

-- ---- read_whole_after_a_part_run

abbrev read_whole_after_a_part_run : ScenarioValue
read_whole_after_a_part_run = record {
  version = 1;
  hosts = record { dev = 7; latency = 0; most = 1; retries = 2; period = 0; offset = 0; lag = 0; offers = true } ∷ [];
  targets = record { dev = 0; latency = 0; retries = 2; disc = policies.NoSave 1; pick = picks.First; seek = 0; period = 0; offset = 0; begins = false } ∷ [];
  units = record { target = 0; unit = 0; blocks = 2; size = 16; depth = 1 } ∷ [];
  fills = [];
  tapes = [];
  loads = [];
  commands = record { host = 7; target = 0; unit = 0; at = 0; tag = tags.Untagged; cdb = (10 ∷ 0 ∷ 0 ∷ 0 ∷ 2 ∷ 0 ∷ []); payload = payloads.From 0 } ∷ [];
  aborts = [];
  resets = [];
  faults = [];
}

abbrev pub read_whole_after_a_part_run_rows : List Row
read_whole_after_a_part_run_rows = drive 1200 7 0x00280 ∷ drive 3600 7 0x00680 ∷ drive 4800 7 0x10781 ∷ drive 4890 7 0x10581 ∷ drive 5290 0 0x00200 ∷ drive 5380 7 0x10000 ∷ drive 5380 0 0x02a00 ∷ drive 5780 0 0x06a00 ∷ drive 5780 7 0x001c0 ∷ drive 5870 7 0x081c0 ∷ drive 5870 0 0x02a00 ∷ drive 5870 7 0x00000 ∷ drive 5870 0 0x00a00 ∷ drive 6270 0 0x04a00 ∷ drive 6270 7 0x0010a ∷ drive 6325 7 0x0810a ∷ drive 6325 0 0x00a00 ∷ drive 6325 7 0x00000 ∷ drive 6325 0 0x04a00 ∷ drive 6325 7 0x00100 ∷ drive 6380 7 0x08100 ∷ drive 6380 0 0x00a00 ∷ drive 6380 7 0x00000 ∷ drive 6380 0 0x04a00 ∷ drive 6380 7 0x00100 ∷ drive 6435 7 0x08100 ∷ drive 6435 0 0x00a00 ∷ drive 6435 7 0x00000 ∷ drive 6435 0 0x04a00 ∷ drive 6435 7 0x00100 ∷ drive 6490 7 0x08100 ∷ drive 6490 0 0x00a00 ∷ drive 6490 7 0x00000 ∷ drive 6490 0 0x04a00 ∷ drive 6490 7 0x00002 ∷ drive 6545 7 0x08002 ∷ drive 6545 0 0x00a00 ∷ drive 6545 7 0x00000 ∷ drive 6545 0 0x04a00 ∷ drive 6545 7 0x00100 ∷ drive 6600 7 0x08100 ∷ drive 6600 0 0x00a00 ∷ drive 6600 7 0x00000 ∷ drive 6600 0 0x03a00 ∷ drive 7400 0 0x03a04 ∷ drive 7455 0 0x07a04 ∷ drive 7455 7 0x08000 ∷ drive 7455 0 0x03a00 ∷ drive 7455 7 0x00000 ∷ drive 7455 0 0x00000 ∷ drive 8655 0 0x00201 ∷ drive 11055 0 0x00601 ∷ drive 12255 0 0x01781 ∷ drive 12345 0 0x01581 ∷ drive 12745 7 0x00200 ∷ drive 12745 0 0x01781 ∷ drive 12835 0 0x03a80 ∷ drive 12835 7 0x00000 ∷ drive 13235 0 0x07a80 ∷ drive 13235 7 0x08000 ∷ drive 13235 0 0x03a00 ∷ drive 13235 7 0x00000 ∷ drive 13235 0 0x00200 ∷ drive 13635 0 0x04200 ∷ drive 13635 7 0x00100 ∷ drive 13690 7 0x08100 ∷ drive 13690 0 0x00200 ∷ drive 13690 7 0x00000 ∷ drive 13690 0 0x04200 ∷ drive 13690 7 0x00001 ∷ drive 13745 7 0x08001 ∷ drive 13745 0 0x00200 ∷ drive 13745 7 0x00000 ∷ drive 13745 0 0x04200 ∷ drive 13745 7 0x00002 ∷ drive 13800 7 0x08002 ∷ drive 13800 0 0x00200 ∷ drive 13800 7 0x00000 ∷ drive 13800 0 0x04200 ∷ drive 13800 7 0x00103 ∷ drive 13855 7 0x08103 ∷ drive 13855 0 0x00200 ∷ drive 13855 7 0x00000 ∷ drive 13855 0 0x04200 ∷ drive 13855 7 0x00004 ∷ drive 13910 7 0x08004 ∷ drive 13910 0 0x00200 ∷ drive 13910 7 0x00000 ∷ drive 13910 0 0x04200 ∷ drive 13910 7 0x00105 ∷ drive 13965 7 0x08105 ∷ drive 13965 0 0x00200 ∷ drive 13965 7 0x00000 ∷ drive 13965 0 0x04200 ∷ drive 13965 7 0x00106 ∷ drive 14020 7 0x08106 ∷ drive 14020 0 0x00200 ∷ drive 14020 7 0x00000 ∷ drive 14020 0 0x04200 ∷ drive 14020 7 0x00007 ∷ drive 14075 7 0x08007 ∷ drive 14075 0 0x00200 ∷ drive 14075 7 0x00000 ∷ drive 14075 0 0x04200 ∷ drive 14075 7 0x00008 ∷ drive 14130 7 0x08008 ∷ drive 14130 0 0x00200 ∷ drive 14130 7 0x00000 ∷ drive 14130 0 0x04200 ∷ drive 14130 7 0x00109 ∷ drive 14185 7 0x08109 ∷ drive 14185 0 0x00200 ∷ drive 14185 7 0x00000 ∷ drive 14185 0 0x04200 ∷ drive 14185 7 0x0010a ∷ drive 14240 7 0x0810a ∷ drive 14240 0 0x00200 ∷ drive 14240 7 0x00000 ∷ drive 14240 0 0x04200 ∷ drive 14240 7 0x0000b ∷ drive 14295 7 0x0800b ∷ drive 14295 0 0x00200 ∷ drive 14295 7 0x00000 ∷ drive 14295 0 0x04200 ∷ drive 14295 7 0x0010c ∷ drive 14350 7 0x0810c ∷ drive 14350 0 0x00200 ∷ drive 14350 7 0x00000 ∷ drive 14350 0 0x04200 ∷ drive 14350 7 0x0000d ∷ drive 14405 7 0x0800d ∷ drive 14405 0 0x00200 ∷ drive 14405 7 0x00000 ∷ drive 14405 0 0x04200 ∷ drive 14405 7 0x0000e ∷ drive 14460 7 0x0800e ∷ drive 14460 0 0x00200 ∷ drive 14460 7 0x00000 ∷ drive 14460 0 0x04200 ∷ drive 14460 7 0x0010f ∷ drive 14515 7 0x0810f ∷ drive 14515 0 0x00200 ∷ drive 14515 7 0x00000 ∷ drive 14515 0 0x03a00 ∷ drive 15315 0 0x03a04 ∷ drive 15370 0 0x07a04 ∷ drive 15370 7 0x08000 ∷ drive 15370 0 0x03a00 ∷ drive 15370 7 0x00000 ∷ drive 15370 0 0x00000 ∷ drive 16570 0 0x00201 ∷ drive 18970 0 0x00601 ∷ drive 20170 0 0x01781 ∷ drive 20260 0 0x01581 ∷ drive 20660 7 0x00200 ∷ drive 20660 0 0x01781 ∷ drive 20750 0 0x03a80 ∷ drive 20750 7 0x00000 ∷ drive 21150 0 0x07a80 ∷ drive 21150 7 0x08000 ∷ drive 21150 0 0x03a00 ∷ drive 21150 7 0x00000 ∷ drive 21150 0 0x00200 ∷ drive 21550 0 0x04200 ∷ drive 21550 7 0x00100 ∷ drive 21605 7 0x08100 ∷ drive 21605 0 0x00200 ∷ drive 21605 7 0x00000 ∷ drive 21605 0 0x04200 ∷ drive 21605 7 0x00001 ∷ drive 21660 7 0x08001 ∷ drive 21660 0 0x00200 ∷ drive 21660 7 0x00000 ∷ drive 21660 0 0x04200 ∷ drive 21660 7 0x00002 ∷ drive 21715 7 0x08002 ∷ drive 21715 0 0x00200 ∷ drive 21715 7 0x00000 ∷ drive 21715 0 0x04200 ∷ drive 21715 7 0x00103 ∷ drive 21770 7 0x08103 ∷ drive 21770 0 0x00200 ∷ drive 21770 7 0x00000 ∷ drive 21770 0 0x04200 ∷ drive 21770 7 0x00004 ∷ drive 21825 7 0x08004 ∷ drive 21825 0 0x00200 ∷ drive 21825 7 0x00000 ∷ drive 21825 0 0x04200 ∷ drive 21825 7 0x00105 ∷ drive 21880 7 0x08105 ∷ drive 21880 0 0x00200 ∷ drive 21880 7 0x00000 ∷ drive 21880 0 0x04200 ∷ drive 21880 7 0x00106 ∷ drive 21935 7 0x08106 ∷ drive 21935 0 0x00200 ∷ drive 21935 7 0x00000 ∷ drive 21935 0 0x04200 ∷ drive 21935 7 0x00007 ∷ drive 21990 7 0x08007 ∷ drive 21990 0 0x00200 ∷ drive 21990 7 0x00000 ∷ drive 21990 0 0x04200 ∷ drive 21990 7 0x00008 ∷ drive 22045 7 0x08008 ∷ drive 22045 0 0x00200 ∷ drive 22045 7 0x00000 ∷ drive 22045 0 0x04200 ∷ drive 22045 7 0x00109 ∷ drive 22100 7 0x08109 ∷ drive 22100 0 0x00200 ∷ drive 22100 7 0x00000 ∷ drive 22100 0 0x04200 ∷ drive 22100 7 0x0010a ∷ drive 22155 7 0x0810a ∷ drive 22155 0 0x00200 ∷ drive 22155 7 0x00000 ∷ drive 22155 0 0x04200 ∷ drive 22155 7 0x0000b ∷ drive 22210 7 0x0800b ∷ drive 22210 0 0x00200 ∷ drive 22210 7 0x00000 ∷ drive 22210 0 0x04200 ∷ drive 22210 7 0x0010c ∷ drive 22265 7 0x0810c ∷ drive 22265 0 0x00200 ∷ drive 22265 7 0x00000 ∷ drive 22265 0 0x04200 ∷ drive 22265 7 0x0000d ∷ drive 22320 7 0x0800d ∷ drive 22320 0 0x00200 ∷ drive 22320 7 0x00000 ∷ drive 22320 0 0x04200 ∷ drive 22320 7 0x0000e ∷ drive 22375 7 0x0800e ∷ drive 22375 0 0x00200 ∷ drive 22375 7 0x00000 ∷ drive 22375 0 0x04200 ∷ drive 22375 7 0x0010f ∷ drive 22430 7 0x0810f ∷ drive 22430 0 0x00200 ∷ drive 22430 7 0x00000 ∷ drive 22430 0 0x04200 ∷ drive 22430 7 0x00010 ∷ drive 22485 7 0x08010 ∷ drive 22485 0 0x00200 ∷ drive 22485 7 0x00000 ∷ drive 22485 0 0x04200 ∷ drive 22485 7 0x00111 ∷ drive 22540 7 0x08111 ∷ drive 22540 0 0x00200 ∷ drive 22540 7 0x00000 ∷ drive 22540 0 0x04200 ∷ drive 22540 7 0x00112 ∷ drive 22595 7 0x08112 ∷ drive 22595 0 0x00200 ∷ drive 22595 7 0x00000 ∷ drive 22595 0 0x04200 ∷ drive 22595 7 0x00013 ∷ drive 22650 7 0x08013 ∷ drive 22650 0 0x00200 ∷ drive 22650 7 0x00000 ∷ drive 22650 0 0x04200 ∷ drive 22650 7 0x00114 ∷ drive 22705 7 0x08114 ∷ drive 22705 0 0x00200 ∷ drive 22705 7 0x00000 ∷ drive 22705 0 0x04200 ∷ drive 22705 7 0x00015 ∷ drive 22760 7 0x08015 ∷ drive 22760 0 0x00200 ∷ drive 22760 7 0x00000 ∷ drive 22760 0 0x04200 ∷ drive 22760 7 0x00016 ∷ drive 22815 7 0x08016 ∷ drive 22815 0 0x00200 ∷ drive 22815 7 0x00000 ∷ drive 22815 0 0x04200 ∷ drive 22815 7 0x00117 ∷ drive 22870 7 0x08117 ∷ drive 22870 0 0x00200 ∷ drive 22870 7 0x00000 ∷ drive 22870 0 0x04200 ∷ drive 22870 7 0x00118 ∷ drive 22925 7 0x08118 ∷ drive 22925 0 0x00200 ∷ drive 22925 7 0x00000 ∷ drive 22925 0 0x04200 ∷ drive 22925 7 0x00019 ∷ drive 22980 7 0x08019 ∷ drive 22980 0 0x00200 ∷ drive 22980 7 0x00000 ∷ drive 22980 0 0x04200 ∷ drive 22980 7 0x0001a ∷ drive 23035 7 0x0801a ∷ drive 23035 0 0x00200 ∷ drive 23035 7 0x00000 ∷ drive 23035 0 0x04200 ∷ drive 23035 7 0x0011b ∷ drive 23090 7 0x0811b ∷ drive 23090 0 0x00200 ∷ drive 23090 7 0x00000 ∷ drive 23090 0 0x04200 ∷ drive 23090 7 0x0001c ∷ drive 23145 7 0x0801c ∷ drive 23145 0 0x00200 ∷ drive 23145 7 0x00000 ∷ drive 23145 0 0x04200 ∷ drive 23145 7 0x0011d ∷ drive 23200 7 0x0811d ∷ drive 23200 0 0x00200 ∷ drive 23200 7 0x00000 ∷ drive 23200 0 0x04200 ∷ drive 23200 7 0x0011e ∷ drive 23255 7 0x0811e ∷ drive 23255 0 0x00200 ∷ drive 23255 7 0x00000 ∷ drive 23255 0 0x04200 ∷ drive 23255 7 0x0001f ∷ drive 23310 7 0x0801f ∷ drive 23310 0 0x00200 ∷ drive 23310 7 0x00000 ∷ drive 23310 0 0x01a00 ∷ drive 24110 0 0x01b00 ∷ drive 24165 0 0x05b00 ∷ drive 24165 7 0x08000 ∷ drive 24165 0 0x01a00 ∷ drive 24165 7 0x00000 ∷ drive 24165 0 0x03b00 ∷ drive 24565 0 0x07b00 ∷ drive 24565 7 0x08000 ∷ drive 24565 0 0x03a00 ∷ drive 24565 7 0x00000 ∷ drive 24565 0 0x00000 ∷ []

abbrev read_whole_after_a_part_run_events : List Event
read_whole_after_a_part_run_events = events.Accept (command 1) ∷ events.Run (command 1) ∷ events.End (command 1) 0 ∷ []

read_whole_after_a_part_run_told : shown read_whole_after_a_part_run (story read_whole_after_a_part_run (reverse read_whole_after_a_part_run_rows)) (reverse read_whole_after_a_part_run_events) ≡ record { history = reverse read_whole_after_a_part_run_events; ends = Some (ended_good ([])) ∷ []; carried = true }
unfolding need_of sent_of ones union_below line_of form_out form_in
read_whole_after_a_part_run_told = refl

-- ---- refusals_run

abbrev refusals_run : ScenarioValue
refusals_run = record {
  version = 1;
  hosts = record { dev = 6; latency = 100; most = 8; retries = 5; period = 0; offset = 0; lag = 0; offers = true } ∷ record { dev = 7; latency = 0; most = 1; retries = 0; period = 0; offset = 0; lag = 0; offers = true } ∷ record { dev = 4; latency = 0; most = 4; retries = 0; period = 0; offset = 0; lag = 500; offers = true } ∷ [];
  targets = record { dev = 1; latency = 100; retries = 16; disc = policies.NoSave 1; pick = picks.Last; seek = 3000; period = 0; offset = 0; begins = false } ∷ [];
  units = record { target = 1; unit = 4; blocks = 1; size = 16; depth = 1 } ∷ [];
  fills = [];
  tapes = [];
  loads = [];
  commands = record { host = 7; target = 1; unit = 4; at = 0; tag = tags.Ordered 255; cdb = (3 ∷ 2 ∷ 0 ∷ 0 ∷ 18 ∷ 0 ∷ []); payload = payloads.Nothing } ∷ record { host = 6; target = 1; unit = 4; at = 0; tag = tags.Simple 1; cdb = (8 ∷ 0 ∷ 0 ∷ 0 ∷ 1 ∷ 0 ∷ []); payload = payloads.Nothing } ∷ record { host = 4; target = 1; unit = 4; at = 0; tag = tags.Simple 2; cdb = (10 ∷ 0 ∷ 0 ∷ 0 ∷ 1 ∷ 0 ∷ []); payload = payloads.From 47 } ∷ record { host = 6; target = 1; unit = 4; at = 0; tag = tags.Head 0; cdb = (0 ∷ 0 ∷ 0 ∷ 0 ∷ 0 ∷ 0 ∷ []); payload = payloads.Nothing } ∷ record { host = 7; target = 1; unit = 4; at = 0; tag = tags.Simple 4; cdb = (18 ∷ 2 ∷ 0 ∷ 0 ∷ 36 ∷ 0 ∷ []); payload = payloads.Nothing } ∷ [];
  aborts = [];
  resets = [];
  faults = [];
}

abbrev pub refusals_run_rows : List Row
refusals_run_rows = drive 1200 7 0x00280 ∷ drive 1200 4 0x00210 ∷ drive 1300 6 0x00240 ∷ drive 3600 7 0x00680 ∷ drive 3600 4 0x00000 ∷ drive 3700 6 0x00000 ∷ drive 4800 7 0x10782 ∷ drive 4890 7 0x10582 ∷ drive 5390 1 0x00200 ∷ drive 5480 7 0x10000 ∷ drive 5580 1 0x02a00 ∷ drive 6080 1 0x06a00 ∷ drive 6080 7 0x100c4 ∷ drive 6135 7 0x180c4 ∷ drive 6235 1 0x02a00 ∷ drive 6235 7 0x10000 ∷ drive 6335 1 0x06a00 ∷ drive 6335 7 0x10122 ∷ drive 6390 7 0x18122 ∷ drive 6490 1 0x02a00 ∷ drive 6490 7 0x10000 ∷ drive 6590 1 0x06a00 ∷ drive 6590 7 0x001ff ∷ drive 6680 7 0x081ff ∷ drive 6780 1 0x02a00 ∷ drive 6780 7 0x00000 ∷ drive 6880 1 0x00a00 ∷ drive 7380 1 0x04a00 ∷ drive 7380 7 0x00103 ∷ drive 7435 7 0x08103 ∷ drive 7535 1 0x00a00 ∷ drive 7535 7 0x00000 ∷ drive 7635 1 0x04a00 ∷ drive 7635 7 0x00002 ∷ drive 7690 7 0x08002 ∷ drive 7790 1 0x00a00 ∷ drive 7790 7 0x00000 ∷ drive 7890 1 0x04a00 ∷ drive 7890 7 0x00100 ∷ drive 7945 7 0x08100 ∷ drive 8045 1 0x00a00 ∷ drive 8045 7 0x00000 ∷ drive 8145 1 0x04a00 ∷ drive 8145 7 0x00100 ∷ drive 8200 7 0x08100 ∷ drive 8300 1 0x00a00 ∷ drive 8300 7 0x00000 ∷ drive 8400 1 0x04a00 ∷ drive 8400 7 0x00112 ∷ drive 8455 7 0x08112 ∷ drive 8555 1 0x00a00 ∷ drive 8555 7 0x00000 ∷ drive 8655 1 0x04a00 ∷ drive 8655 7 0x00100 ∷ drive 8710 7 0x08100 ∷ drive 8810 1 0x00a00 ∷ drive 8810 7 0x00000 ∷ drive 8910 1 0x03a00 ∷ drive 9810 1 0x03a04 ∷ drive 9965 1 0x07a04 ∷ drive 9965 7 0x08000 ∷ drive 10065 1 0x03a00 ∷ drive 10065 7 0x00000 ∷ drive 10165 1 0x00000 ∷ drive 11365 4 0x00210 ∷ drive 11465 6 0x00240 ∷ drive 12010 1 0x00202 ∷ drive 13965 6 0x00640 ∷ drive 13965 4 0x00000 ∷ drive 14065 1 0x00000 ∷ drive 15265 6 0x10742 ∷ drive 15455 6 0x10542 ∷ drive 15955 1 0x00200 ∷ drive 16145 6 0x10000 ∷ drive 16245 1 0x02a00 ∷ drive 16745 1 0x06a00 ∷ drive 16845 6 0x100c4 ∷ drive 17000 6 0x180c4 ∷ drive 17100 1 0x02a00 ∷ drive 17200 6 0x10000 ∷ drive 17300 1 0x06a00 ∷ drive 17400 6 0x10020 ∷ drive 17555 6 0x18020 ∷ drive 17655 1 0x02a00 ∷ drive 17755 6 0x10000 ∷ drive 17855 1 0x06a00 ∷ drive 17955 6 0x00001 ∷ drive 18145 6 0x08001 ∷ drive 18245 1 0x02a00 ∷ drive 18345 6 0x00000 ∷ drive 18445 1 0x00a00 ∷ drive 18945 1 0x04a00 ∷ drive 19045 6 0x00008 ∷ drive 19200 6 0x08008 ∷ drive 19300 1 0x00a00 ∷ drive 19400 6 0x00000 ∷ drive 19500 1 0x04a00 ∷ drive 19600 6 0x00100 ∷ drive 19755 6 0x08100 ∷ drive 19855 1 0x00a00 ∷ drive 19955 6 0x00000 ∷ drive 20055 1 0x04a00 ∷ drive 20155 6 0x00100 ∷ drive 20310 6 0x08100 ∷ drive 20410 1 0x00a00 ∷ drive 20510 6 0x00000 ∷ drive 20610 1 0x04a00 ∷ drive 20710 6 0x00100 ∷ drive 20865 6 0x08100 ∷ drive 20965 1 0x00a00 ∷ drive 21065 6 0x00000 ∷ drive 21165 1 0x04a00 ∷ drive 21265 6 0x00001 ∷ drive 21420 6 0x08001 ∷ drive 21520 1 0x00a00 ∷ drive 21620 6 0x00000 ∷ drive 21720 1 0x04a00 ∷ drive 21820 6 0x00100 ∷ drive 21975 6 0x08100 ∷ drive 22075 1 0x00a00 ∷ drive 22175 6 0x00000 ∷ drive 22275 1 0x01a00 ∷ drive 23175 1 0x01b28 ∷ drive 23330 1 0x05b28 ∷ drive 23430 6 0x08000 ∷ drive 23530 1 0x01a00 ∷ drive 23630 6 0x00000 ∷ drive 23730 1 0x03b00 ∷ drive 24230 1 0x07b00 ∷ drive 24330 6 0x08000 ∷ drive 24430 1 0x03a00 ∷ drive 24530 6 0x00000 ∷ drive 24630 1 0x00000 ∷ drive 25830 4 0x00210 ∷ drive 25930 6 0x00240 ∷ drive 25930 1 0x00202 ∷ drive 28430 6 0x00640 ∷ drive 28430 4 0x00000 ∷ drive 28530 1 0x00000 ∷ drive 29730 6 0x10742 ∷ drive 29920 6 0x10542 ∷ drive 30420 1 0x00200 ∷ drive 30610 6 0x10000 ∷ drive 30710 1 0x02a00 ∷ drive 31210 1 0x06a00 ∷ drive 31310 6 0x100c4 ∷ drive 31465 6 0x180c4 ∷ drive 31565 1 0x02a00 ∷ drive 31665 6 0x10000 ∷ drive 31765 1 0x06a00 ∷ drive 31865 6 0x10121 ∷ drive 32020 6 0x18121 ∷ drive 32120 1 0x02a00 ∷ drive 32220 6 0x10000 ∷ drive 32320 1 0x06a00 ∷ drive 32420 6 0x00100 ∷ drive 32610 6 0x08100 ∷ drive 32710 1 0x02a00 ∷ drive 32810 6 0x00000 ∷ drive 32910 1 0x00a00 ∷ drive 33410 1 0x04a00 ∷ drive 33510 6 0x00100 ∷ drive 33665 6 0x08100 ∷ drive 33765 1 0x00a00 ∷ drive 33865 6 0x00000 ∷ drive 33965 1 0x04a00 ∷ drive 34065 6 0x00100 ∷ drive 34220 6 0x08100 ∷ drive 34320 1 0x00a00 ∷ drive 34420 6 0x00000 ∷ drive 34520 1 0x04a00 ∷ drive 34620 6 0x00100 ∷ drive 34775 6 0x08100 ∷ drive 34875 1 0x00a00 ∷ drive 34975 6 0x00000 ∷ drive 35075 1 0x04a00 ∷ drive 35175 6 0x00100 ∷ drive 35330 6 0x08100 ∷ drive 35430 1 0x00a00 ∷ drive 35530 6 0x00000 ∷ drive 35630 1 0x04a00 ∷ drive 35730 6 0x00100 ∷ drive 35885 6 0x08100 ∷ drive 35985 1 0x00a00 ∷ drive 36085 6 0x00000 ∷ drive 36185 1 0x04a00 ∷ drive 36285 6 0x00100 ∷ drive 36440 6 0x08100 ∷ drive 36540 1 0x00a00 ∷ drive 36640 6 0x00000 ∷ drive 36740 1 0x01a00 ∷ drive 37640 1 0x01b28 ∷ drive 37795 1 0x05b28 ∷ drive 37895 6 0x08000 ∷ drive 37995 1 0x01a00 ∷ drive 38095 6 0x00000 ∷ drive 38195 1 0x03b00 ∷ drive 38695 1 0x07b00 ∷ drive 38795 6 0x08000 ∷ drive 38895 1 0x03a00 ∷ drive 38995 6 0x00000 ∷ drive 39095 1 0x00000 ∷ drive 40295 4 0x00210 ∷ drive 40395 1 0x00202 ∷ drive 42695 4 0x00610 ∷ drive 42795 1 0x00000 ∷ drive 43895 4 0x10712 ∷ drive 43985 4 0x10512 ∷ drive 44485 1 0x00200 ∷ drive 44575 4 0x10000 ∷ drive 44675 1 0x02a00 ∷ drive 45175 1 0x06a00 ∷ drive 45175 4 0x100c4 ∷ drive 45230 4 0x180c4 ∷ drive 45330 1 0x02a00 ∷ drive 45330 4 0x10000 ∷ drive 45430 1 0x06a00 ∷ drive 45430 4 0x10020 ∷ drive 45485 4 0x18020 ∷ drive 45585 1 0x02a00 ∷ drive 45585 4 0x10000 ∷ drive 45685 1 0x06a00 ∷ drive 45685 4 0x00002 ∷ drive 45775 4 0x08002 ∷ drive 45875 1 0x02a00 ∷ drive 45875 4 0x00000 ∷ drive 45975 1 0x00a00 ∷ drive 46475 1 0x04a00 ∷ drive 46475 4 0x0010a ∷ drive 46530 4 0x0810a ∷ drive 46630 1 0x00a00 ∷ drive 46630 4 0x00000 ∷ drive 46730 1 0x04a00 ∷ drive 46730 4 0x00100 ∷ drive 46785 4 0x08100 ∷ drive 46885 1 0x00a00 ∷ drive 46885 4 0x00000 ∷ drive 46985 1 0x04a00 ∷ drive 46985 4 0x00100 ∷ drive 47040 4 0x08100 ∷ drive 47140 1 0x00a00 ∷ drive 47140 4 0x00000 ∷ drive 47240 1 0x04a00 ∷ drive 47240 4 0x00100 ∷ drive 47295 4 0x08100 ∷ drive 47395 1 0x00a00 ∷ drive 47395 4 0x00000 ∷ drive 47495 1 0x04a00 ∷ drive 47495 4 0x00001 ∷ drive 47550 4 0x08001 ∷ drive 47650 1 0x00a00 ∷ drive 47650 4 0x00000 ∷ drive 47750 1 0x04a00 ∷ drive 47750 4 0x00100 ∷ drive 47805 4 0x08100 ∷ drive 47905 1 0x00a00 ∷ drive 47905 4 0x00000 ∷ drive 48005 1 0x01a00 ∷ drive 48905 1 0x01b28 ∷ drive 49060 1 0x05b28 ∷ drive 49060 4 0x08000 ∷ drive 49160 1 0x01a00 ∷ drive 49160 4 0x00000 ∷ drive 49260 1 0x03b00 ∷ drive 49760 1 0x07b00 ∷ drive 49760 4 0x08000 ∷ drive 49860 1 0x03a00 ∷ drive 49860 4 0x00000 ∷ drive 49960 1 0x00000 ∷ drive 51260 1 0x00202 ∷ drive 53760 1 0x00602 ∷ drive 55060 1 0x01782 ∷ drive 55250 1 0x01582 ∷ drive 55650 7 0x00200 ∷ drive 55750 1 0x01782 ∷ drive 55940 1 0x03b84 ∷ drive 55940 7 0x00000 ∷ drive 56440 1 0x07b84 ∷ drive 56440 7 0x08000 ∷ drive 56540 1 0x03a20 ∷ drive 56540 7 0x00000 ∷ drive 56695 1 0x07a20 ∷ drive 56695 7 0x08000 ∷ drive 56795 1 0x03bff ∷ drive 56795 7 0x00000 ∷ drive 56950 1 0x07bff ∷ drive 56950 7 0x08000 ∷ drive 57050 1 0x03a00 ∷ drive 57050 7 0x00000 ∷ drive 57150 1 0x01a02 ∷ drive 57650 1 0x05a02 ∷ drive 57650 7 0x08000 ∷ drive 57750 1 0x01a00 ∷ drive 57750 7 0x00000 ∷ drive 57850 1 0x03b00 ∷ drive 58350 1 0x07b00 ∷ drive 58350 7 0x08000 ∷ drive 58450 1 0x03a00 ∷ drive 58450 7 0x00000 ∷ drive 58550 1 0x00000 ∷ drive 59750 7 0x00280 ∷ drive 62150 7 0x00680 ∷ drive 63350 7 0x10782 ∷ drive 63440 7 0x10582 ∷ drive 63940 1 0x00200 ∷ drive 64030 7 0x10000 ∷ drive 64130 1 0x02a00 ∷ drive 64630 1 0x06a00 ∷ drive 64630 7 0x00184 ∷ drive 64720 7 0x08184 ∷ drive 64820 1 0x02a00 ∷ drive 64820 7 0x00000 ∷ drive 64920 1 0x00a00 ∷ drive 65420 1 0x04a00 ∷ drive 65420 7 0x00103 ∷ drive 65475 7 0x08103 ∷ drive 65575 1 0x00a00 ∷ drive 65575 7 0x00000 ∷ drive 65675 1 0x04a00 ∷ drive 65675 7 0x00100 ∷ drive 65730 7 0x08100 ∷ drive 65830 1 0x00a00 ∷ drive 65830 7 0x00000 ∷ drive 65930 1 0x04a00 ∷ drive 65930 7 0x00100 ∷ drive 65985 7 0x08100 ∷ drive 66085 1 0x00a00 ∷ drive 66085 7 0x00000 ∷ drive 66185 1 0x04a00 ∷ drive 66185 7 0x00100 ∷ drive 66240 7 0x08100 ∷ drive 66340 1 0x00a00 ∷ drive 66340 7 0x00000 ∷ drive 66440 1 0x04a00 ∷ drive 66440 7 0x00112 ∷ drive 66495 7 0x08112 ∷ drive 66595 1 0x00a00 ∷ drive 66595 7 0x00000 ∷ drive 66695 1 0x04a00 ∷ drive 66695 7 0x00100 ∷ drive 66750 7 0x08100 ∷ drive 66850 1 0x00a00 ∷ drive 66850 7 0x00000 ∷ drive 66950 1 0x01200 ∷ drive 67850 1 0x01270 ∷ drive 68005 1 0x05270 ∷ drive 68005 7 0x08000 ∷ drive 68105 1 0x01300 ∷ drive 68105 7 0x00000 ∷ drive 68260 1 0x05300 ∷ drive 68260 7 0x08000 ∷ drive 68360 1 0x01305 ∷ drive 68360 7 0x00000 ∷ drive 68515 1 0x05305 ∷ drive 68515 7 0x08000 ∷ drive 68615 1 0x01300 ∷ drive 68615 7 0x00000 ∷ drive 68770 1 0x05300 ∷ drive 68770 7 0x08000 ∷ drive 68870 1 0x01300 ∷ drive 68870 7 0x00000 ∷ drive 69025 1 0x05300 ∷ drive 69025 7 0x08000 ∷ drive 69125 1 0x01300 ∷ drive 69125 7 0x00000 ∷ drive 69280 1 0x05300 ∷ drive 69280 7 0x08000 ∷ drive 69380 1 0x01300 ∷ drive 69380 7 0x00000 ∷ drive 69535 1 0x05300 ∷ drive 69535 7 0x08000 ∷ drive 69635 1 0x0130a ∷ drive 69635 7 0x00000 ∷ drive 69790 1 0x0530a ∷ drive 69790 7 0x08000 ∷ drive 69890 1 0x01300 ∷ drive 69890 7 0x00000 ∷ drive 70045 1 0x05300 ∷ drive 70045 7 0x08000 ∷ drive 70145 1 0x01300 ∷ drive 70145 7 0x00000 ∷ drive 70300 1 0x05300 ∷ drive 70300 7 0x08000 ∷ drive 70400 1 0x01300 ∷ drive 70400 7 0x00000 ∷ drive 70555 1 0x05300 ∷ drive 70555 7 0x08000 ∷ drive 70655 1 0x01300 ∷ drive 70655 7 0x00000 ∷ drive 70810 1 0x05300 ∷ drive 70810 7 0x08000 ∷ drive 70910 1 0x01324 ∷ drive 70910 7 0x00000 ∷ drive 71065 1 0x05324 ∷ drive 71065 7 0x08000 ∷ drive 71165 1 0x01300 ∷ drive 71165 7 0x00000 ∷ drive 71320 1 0x05300 ∷ drive 71320 7 0x08000 ∷ drive 71420 1 0x01300 ∷ drive 71420 7 0x00000 ∷ drive 71575 1 0x05300 ∷ drive 71575 7 0x08000 ∷ drive 71675 1 0x01300 ∷ drive 71675 7 0x00000 ∷ drive 71830 1 0x05300 ∷ drive 71830 7 0x08000 ∷ drive 71930 1 0x01300 ∷ drive 71930 7 0x00000 ∷ drive 72085 1 0x05300 ∷ drive 72085 7 0x08000 ∷ drive 72185 1 0x01300 ∷ drive 72185 7 0x00000 ∷ drive 72340 1 0x05300 ∷ drive 72340 7 0x08000 ∷ drive 72440 1 0x01200 ∷ drive 72440 7 0x00000 ∷ drive 72540 1 0x01b00 ∷ drive 73040 1 0x05b00 ∷ drive 73040 7 0x08000 ∷ drive 73140 1 0x01a00 ∷ drive 73140 7 0x00000 ∷ drive 73240 1 0x03b00 ∷ drive 73740 1 0x07b00 ∷ drive 73740 7 0x08000 ∷ drive 73840 1 0x03a00 ∷ drive 73840 7 0x00000 ∷ drive 73940 1 0x00000 ∷ drive 75140 7 0x00280 ∷ drive 77540 7 0x00680 ∷ drive 78740 7 0x10782 ∷ drive 78830 7 0x10582 ∷ drive 79330 1 0x00200 ∷ drive 79420 7 0x10000 ∷ drive 79520 1 0x02a00 ∷ drive 80020 1 0x06a00 ∷ drive 80020 7 0x100c4 ∷ drive 80075 7 0x180c4 ∷ drive 80175 1 0x02a00 ∷ drive 80175 7 0x10000 ∷ drive 80275 1 0x06a00 ∷ drive 80275 7 0x10020 ∷ drive 80330 7 0x18020 ∷ drive 80430 1 0x02a00 ∷ drive 80430 7 0x10000 ∷ drive 80530 1 0x06a00 ∷ drive 80530 7 0x00004 ∷ drive 80620 7 0x08004 ∷ drive 80720 1 0x02a00 ∷ drive 80720 7 0x00000 ∷ drive 80820 1 0x00a00 ∷ drive 81320 1 0x04a00 ∷ drive 81320 7 0x00112 ∷ drive 81375 7 0x08112 ∷ drive 81475 1 0x00a00 ∷ drive 81475 7 0x00000 ∷ drive 81575 1 0x04a00 ∷ drive 81575 7 0x00002 ∷ drive 81630 7 0x08002 ∷ drive 81730 1 0x00a00 ∷ drive 81730 7 0x00000 ∷ drive 81830 1 0x04a00 ∷ drive 81830 7 0x00100 ∷ drive 81885 7 0x08100 ∷ drive 81985 1 0x00a00 ∷ drive 81985 7 0x00000 ∷ drive 82085 1 0x04a00 ∷ drive 82085 7 0x00100 ∷ drive 82140 7 0x08100 ∷ drive 82240 1 0x00a00 ∷ drive 82240 7 0x00000 ∷ drive 82340 1 0x04a00 ∷ drive 82340 7 0x00124 ∷ drive 82395 7 0x08124 ∷ drive 82495 1 0x00a00 ∷ drive 82495 7 0x00000 ∷ drive 82595 1 0x04a00 ∷ drive 82595 7 0x00100 ∷ drive 82650 7 0x08100 ∷ drive 82750 1 0x00a00 ∷ drive 82750 7 0x00000 ∷ drive 82850 1 0x03a00 ∷ drive 83750 1 0x03a04 ∷ drive 83905 1 0x07a04 ∷ drive 83905 7 0x08000 ∷ drive 84005 1 0x03a00 ∷ drive 84005 7 0x00000 ∷ drive 84105 1 0x00000 ∷ drive 85950 1 0x00202 ∷ drive 88450 1 0x00602 ∷ drive 89750 1 0x01782 ∷ drive 89940 1 0x01582 ∷ drive 90340 7 0x00200 ∷ drive 90440 1 0x01782 ∷ drive 90630 1 0x03b84 ∷ drive 90630 7 0x00000 ∷ drive 91130 1 0x07b84 ∷ drive 91130 7 0x08000 ∷ drive 91230 1 0x03a20 ∷ drive 91230 7 0x00000 ∷ drive 91385 1 0x07a20 ∷ drive 91385 7 0x08000 ∷ drive 91485 1 0x03a04 ∷ drive 91485 7 0x00000 ∷ drive 91640 1 0x07a04 ∷ drive 91640 7 0x08000 ∷ drive 91740 1 0x03a00 ∷ drive 91740 7 0x00000 ∷ drive 91840 1 0x01a02 ∷ drive 92340 1 0x05a02 ∷ drive 92340 7 0x08000 ∷ drive 92440 1 0x01a00 ∷ drive 92440 7 0x00000 ∷ drive 92540 1 0x03b00 ∷ drive 93040 1 0x07b00 ∷ drive 93040 7 0x08000 ∷ drive 93140 1 0x03a00 ∷ drive 93140 7 0x00000 ∷ drive 93240 1 0x00000 ∷ drive 94440 7 0x00280 ∷ drive 96840 7 0x00680 ∷ drive 98040 7 0x10782 ∷ drive 98130 7 0x10582 ∷ drive 98630 1 0x00200 ∷ drive 98720 7 0x10000 ∷ drive 98820 1 0x02a00 ∷ drive 99320 1 0x06a00 ∷ drive 99320 7 0x00184 ∷ drive 99410 7 0x08184 ∷ drive 99510 1 0x02a00 ∷ drive 99510 7 0x00000 ∷ drive 99610 1 0x00a00 ∷ drive 100110 1 0x04a00 ∷ drive 100110 7 0x00103 ∷ drive 100165 7 0x08103 ∷ drive 100265 1 0x00a00 ∷ drive 100265 7 0x00000 ∷ drive 100365 1 0x04a00 ∷ drive 100365 7 0x00100 ∷ drive 100420 7 0x08100 ∷ drive 100520 1 0x00a00 ∷ drive 100520 7 0x00000 ∷ drive 100620 1 0x04a00 ∷ drive 100620 7 0x00100 ∷ drive 100675 7 0x08100 ∷ drive 100775 1 0x00a00 ∷ drive 100775 7 0x00000 ∷ drive 100875 1 0x04a00 ∷ drive 100875 7 0x00100 ∷ drive 100930 7 0x08100 ∷ drive 101030 1 0x00a00 ∷ drive 101030 7 0x00000 ∷ drive 101130 1 0x04a00 ∷ drive 101130 7 0x00112 ∷ drive 101185 7 0x08112 ∷ drive 101285 1 0x00a00 ∷ drive 101285 7 0x00000 ∷ drive 101385 1 0x04a00 ∷ drive 101385 7 0x00100 ∷ drive 101440 7 0x08100 ∷ drive 101540 1 0x00a00 ∷ drive 101540 7 0x00000 ∷ drive 101640 1 0x01200 ∷ drive 102540 1 0x01270 ∷ drive 102695 1 0x05270 ∷ drive 102695 7 0x08000 ∷ drive 102795 1 0x01300 ∷ drive 102795 7 0x00000 ∷ drive 102950 1 0x05300 ∷ drive 102950 7 0x08000 ∷ drive 103050 1 0x01305 ∷ drive 103050 7 0x00000 ∷ drive 103205 1 0x05305 ∷ drive 103205 7 0x08000 ∷ drive 103305 1 0x01300 ∷ drive 103305 7 0x00000 ∷ drive 103460 1 0x05300 ∷ drive 103460 7 0x08000 ∷ drive 103560 1 0x01300 ∷ drive 103560 7 0x00000 ∷ drive 103715 1 0x05300 ∷ drive 103715 7 0x08000 ∷ drive 103815 1 0x01300 ∷ drive 103815 7 0x00000 ∷ drive 103970 1 0x05300 ∷ drive 103970 7 0x08000 ∷ drive 104070 1 0x01300 ∷ drive 104070 7 0x00000 ∷ drive 104225 1 0x05300 ∷ drive 104225 7 0x08000 ∷ drive 104325 1 0x0130a ∷ drive 104325 7 0x00000 ∷ drive 104480 1 0x0530a ∷ drive 104480 7 0x08000 ∷ drive 104580 1 0x01300 ∷ drive 104580 7 0x00000 ∷ drive 104735 1 0x05300 ∷ drive 104735 7 0x08000 ∷ drive 104835 1 0x01300 ∷ drive 104835 7 0x00000 ∷ drive 104990 1 0x05300 ∷ drive 104990 7 0x08000 ∷ drive 105090 1 0x01300 ∷ drive 105090 7 0x00000 ∷ drive 105245 1 0x05300 ∷ drive 105245 7 0x08000 ∷ drive 105345 1 0x01300 ∷ drive 105345 7 0x00000 ∷ drive 105500 1 0x05300 ∷ drive 105500 7 0x08000 ∷ drive 105600 1 0x01324 ∷ drive 105600 7 0x00000 ∷ drive 105755 1 0x05324 ∷ drive 105755 7 0x08000 ∷ drive 105855 1 0x01300 ∷ drive 105855 7 0x00000 ∷ drive 106010 1 0x05300 ∷ drive 106010 7 0x08000 ∷ drive 106110 1 0x01300 ∷ drive 106110 7 0x00000 ∷ drive 106265 1 0x05300 ∷ drive 106265 7 0x08000 ∷ drive 106365 1 0x01300 ∷ drive 106365 7 0x00000 ∷ drive 106520 1 0x05300 ∷ drive 106520 7 0x08000 ∷ drive 106620 1 0x01300 ∷ drive 106620 7 0x00000 ∷ drive 106775 1 0x05300 ∷ drive 106775 7 0x08000 ∷ drive 106875 1 0x01300 ∷ drive 106875 7 0x00000 ∷ drive 107030 1 0x05300 ∷ drive 107030 7 0x08000 ∷ drive 107130 1 0x01200 ∷ drive 107130 7 0x00000 ∷ drive 107230 1 0x01b00 ∷ drive 107730 1 0x05b00 ∷ drive 107730 7 0x08000 ∷ drive 107830 1 0x01a00 ∷ drive 107830 7 0x00000 ∷ drive 107930 1 0x03b00 ∷ drive 108430 1 0x07b00 ∷ drive 108430 7 0x08000 ∷ drive 108530 1 0x03a00 ∷ drive 108530 7 0x00000 ∷ drive 108630 1 0x00000 ∷ []

abbrev refusals_run_events : List Event
refusals_run_events = events.Accept (command 1) ∷ events.Refuse (command 2) ∷ events.End (command 2) 40 ∷ events.Refuse (command 4) ∷ events.End (command 4) 40 ∷ events.Refuse (command 3) ∷ events.End (command 3) 40 ∷ events.Run (command 1) ∷ events.End (command 1) 2 ∷ events.Accept (sense 1) ∷ events.Run (sense 1) ∷ events.End (sense 1) 0 ∷ events.Accept (command 5) ∷ events.Run (command 5) ∷ events.End (command 5) 2 ∷ events.Accept (sense 5) ∷ events.Run (sense 5) ∷ events.End (sense 5) 0 ∷ []

refusals_run_told : shown refusals_run (story refusals_run (reverse refusals_run_rows)) (reverse refusals_run_events) ≡ record { history = reverse refusals_run_events; ends = Some (ended_check (Some (sense_of 5 36 0))) ∷ Some (ended_full) ∷ Some (ended_full) ∷ Some (ended_full) ∷ Some (ended_check (Some (sense_of 5 36 0))) ∷ []; carried = true }
unfolding need_of sent_of ones union_below line_of form_out form_in
refusals_run_told = refl

-- ---- reset_run

abbrev reset_run : ScenarioValue
reset_run = record {
  version = 1;
  hosts = record { dev = 7; latency = 0; most = 8; retries = 2; period = 0; offset = 0; lag = 0; offers = true } ∷ [];
  targets = record { dev = 0; latency = 0; retries = 2; disc = policies.Command; pick = picks.First; seek = 0; period = 0; offset = 0; begins = false } ∷ [];
  units = record { target = 0; unit = 0; blocks = 2; size = 16; depth = 2 } ∷ [];
  fills = [];
  tapes = [];
  loads = [];
  commands = record { host = 7; target = 0; unit = 0; at = 50000; tag = tags.Untagged; cdb = (10 ∷ 0 ∷ 0 ∷ 1 ∷ 1 ∷ 0 ∷ []); payload = payloads.From 16 } ∷ record { host = 7; target = 0; unit = 0; at = 90000; tag = tags.Untagged; cdb = (10 ∷ 0 ∷ 0 ∷ 1 ∷ 1 ∷ 0 ∷ []); payload = payloads.From 32 } ∷ record { host = 7; target = 0; unit = 0; at = 130000; tag = tags.Untagged; cdb = (37 ∷ 0 ∷ 0 ∷ 0 ∷ 0 ∷ 0 ∷ 0 ∷ 0 ∷ 0 ∷ 0 ∷ []); payload = payloads.Nothing } ∷ [];
  aborts = [];
  resets = record { dev = 7; at = 1000 } ∷ [];
  faults = [];
}

abbrev pub reset_run_rows : List Row
reset_run_rows = drive 1000 7 0x20000 ∷ drive 26000 7 0x00000 ∷ drive 50000 7 0x00280 ∷ drive 52400 7 0x00680 ∷ drive 53600 7 0x10781 ∷ drive 53690 7 0x10581 ∷ drive 54090 0 0x00200 ∷ drive 54180 7 0x10000 ∷ drive 54180 0 0x02a00 ∷ drive 54580 0 0x06a00 ∷ drive 54580 7 0x001c0 ∷ drive 54670 7 0x081c0 ∷ drive 54670 0 0x02a00 ∷ drive 54670 7 0x00000 ∷ drive 54670 0 0x00a00 ∷ drive 55070 0 0x04a00 ∷ drive 55070 7 0x0010a ∷ drive 55125 7 0x0810a ∷ drive 55125 0 0x00a00 ∷ drive 55125 7 0x00000 ∷ drive 55125 0 0x04a00 ∷ drive 55125 7 0x00100 ∷ drive 55180 7 0x08100 ∷ drive 55180 0 0x00a00 ∷ drive 55180 7 0x00000 ∷ drive 55180 0 0x04a00 ∷ drive 55180 7 0x00100 ∷ drive 55235 7 0x08100 ∷ drive 55235 0 0x00a00 ∷ drive 55235 7 0x00000 ∷ drive 55235 0 0x04a00 ∷ drive 55235 7 0x00001 ∷ drive 55290 7 0x08001 ∷ drive 55290 0 0x00a00 ∷ drive 55290 7 0x00000 ∷ drive 55290 0 0x04a00 ∷ drive 55290 7 0x00001 ∷ drive 55345 7 0x08001 ∷ drive 55345 0 0x00a00 ∷ drive 55345 7 0x00000 ∷ drive 55345 0 0x04a00 ∷ drive 55345 7 0x00100 ∷ drive 55400 7 0x08100 ∷ drive 55400 0 0x00a00 ∷ drive 55400 7 0x00000 ∷ drive 55400 0 0x03a00 ∷ drive 56200 0 0x03a04 ∷ drive 56255 0 0x07a04 ∷ drive 56255 7 0x08000 ∷ drive 56255 0 0x03a00 ∷ drive 56255 7 0x00000 ∷ drive 56255 0 0x00000 ∷ drive 57455 0 0x00201 ∷ drive 59855 0 0x00601 ∷ drive 61055 0 0x01781 ∷ drive 61145 0 0x01581 ∷ drive 61545 7 0x00200 ∷ drive 61545 0 0x01781 ∷ drive 61635 0 0x03a80 ∷ drive 61635 7 0x00000 ∷ drive 62035 0 0x07a80 ∷ drive 62035 7 0x08000 ∷ drive 62035 0 0x03a00 ∷ drive 62035 7 0x00000 ∷ drive 62035 0 0x01a02 ∷ drive 62435 0 0x05a02 ∷ drive 62435 7 0x08000 ∷ drive 62435 0 0x01a00 ∷ drive 62435 7 0x00000 ∷ drive 62435 0 0x03b00 ∷ drive 62835 0 0x07b00 ∷ drive 62835 7 0x08000 ∷ drive 62835 0 0x03a00 ∷ drive 62835 7 0x00000 ∷ drive 62835 0 0x00000 ∷ drive 64035 7 0x00280 ∷ drive 66435 7 0x00680 ∷ drive 67635 7 0x10781 ∷ drive 67725 7 0x10581 ∷ drive 68125 0 0x00200 ∷ drive 68215 7 0x10000 ∷ drive 68215 0 0x02a00 ∷ drive 68615 0 0x06a00 ∷ drive 68615 7 0x00080 ∷ drive 68705 7 0x08080 ∷ drive 68705 0 0x02a00 ∷ drive 68705 7 0x00000 ∷ drive 68705 0 0x00a00 ∷ drive 69105 0 0x04a00 ∷ drive 69105 7 0x00103 ∷ drive 69160 7 0x08103 ∷ drive 69160 0 0x00a00 ∷ drive 69160 7 0x00000 ∷ drive 69160 0 0x04a00 ∷ drive 69160 7 0x00100 ∷ drive 69215 7 0x08100 ∷ drive 69215 0 0x00a00 ∷ drive 69215 7 0x00000 ∷ drive 69215 0 0x04a00 ∷ drive 69215 7 0x00100 ∷ drive 69270 7 0x08100 ∷ drive 69270 0 0x00a00 ∷ drive 69270 7 0x00000 ∷ drive 69270 0 0x04a00 ∷ drive 69270 7 0x00100 ∷ drive 69325 7 0x08100 ∷ drive 69325 0 0x00a00 ∷ drive 69325 7 0x00000 ∷ drive 69325 0 0x04a00 ∷ drive 69325 7 0x00112 ∷ drive 69380 7 0x08112 ∷ drive 69380 0 0x00a00 ∷ drive 69380 7 0x00000 ∷ drive 69380 0 0x04a00 ∷ drive 69380 7 0x00100 ∷ drive 69435 7 0x08100 ∷ drive 69435 0 0x00a00 ∷ drive 69435 7 0x00000 ∷ drive 69435 0 0x01200 ∷ drive 70235 0 0x01270 ∷ drive 70290 0 0x05270 ∷ drive 70290 7 0x08000 ∷ drive 70290 0 0x01300 ∷ drive 70290 7 0x00000 ∷ drive 70345 0 0x05300 ∷ drive 70345 7 0x08000 ∷ drive 70345 0 0x01306 ∷ drive 70345 7 0x00000 ∷ drive 70400 0 0x05306 ∷ drive 70400 7 0x08000 ∷ drive 70400 0 0x01300 ∷ drive 70400 7 0x00000 ∷ drive 70455 0 0x05300 ∷ drive 70455 7 0x08000 ∷ drive 70455 0 0x01300 ∷ drive 70455 7 0x00000 ∷ drive 70510 0 0x05300 ∷ drive 70510 7 0x08000 ∷ drive 70510 0 0x01300 ∷ drive 70510 7 0x00000 ∷ drive 70565 0 0x05300 ∷ drive 70565 7 0x08000 ∷ drive 70565 0 0x01300 ∷ drive 70565 7 0x00000 ∷ drive 70620 0 0x05300 ∷ drive 70620 7 0x08000 ∷ drive 70620 0 0x0130a ∷ drive 70620 7 0x00000 ∷ drive 70675 0 0x0530a ∷ drive 70675 7 0x08000 ∷ drive 70675 0 0x01300 ∷ drive 70675 7 0x00000 ∷ drive 70730 0 0x05300 ∷ drive 70730 7 0x08000 ∷ drive 70730 0 0x01300 ∷ drive 70730 7 0x00000 ∷ drive 70785 0 0x05300 ∷ drive 70785 7 0x08000 ∷ drive 70785 0 0x01300 ∷ drive 70785 7 0x00000 ∷ drive 70840 0 0x05300 ∷ drive 70840 7 0x08000 ∷ drive 70840 0 0x01300 ∷ drive 70840 7 0x00000 ∷ drive 70895 0 0x05300 ∷ drive 70895 7 0x08000 ∷ drive 70895 0 0x01229 ∷ drive 70895 7 0x00000 ∷ drive 70950 0 0x05229 ∷ drive 70950 7 0x08000 ∷ drive 70950 0 0x01300 ∷ drive 70950 7 0x00000 ∷ drive 71005 0 0x05300 ∷ drive 71005 7 0x08000 ∷ drive 71005 0 0x01300 ∷ drive 71005 7 0x00000 ∷ drive 71060 0 0x05300 ∷ drive 71060 7 0x08000 ∷ drive 71060 0 0x01300 ∷ drive 71060 7 0x00000 ∷ drive 71115 0 0x05300 ∷ drive 71115 7 0x08000 ∷ drive 71115 0 0x01300 ∷ drive 71115 7 0x00000 ∷ drive 71170 0 0x05300 ∷ drive 71170 7 0x08000 ∷ drive 71170 0 0x01300 ∷ drive 71170 7 0x00000 ∷ drive 71225 0 0x05300 ∷ drive 71225 7 0x08000 ∷ drive 71225 0 0x01200 ∷ drive 71225 7 0x00000 ∷ drive 71225 0 0x01b00 ∷ drive 71625 0 0x05b00 ∷ drive 71625 7 0x08000 ∷ drive 71625 0 0x01a00 ∷ drive 71625 7 0x00000 ∷ drive 71625 0 0x03b00 ∷ drive 72025 0 0x07b00 ∷ drive 72025 7 0x08000 ∷ drive 72025 0 0x03a00 ∷ drive 72025 7 0x00000 ∷ drive 72025 0 0x00000 ∷ drive 90000 7 0x00280 ∷ drive 92400 7 0x00680 ∷ drive 93600 7 0x10781 ∷ drive 93690 7 0x10581 ∷ drive 94090 0 0x00200 ∷ drive 94180 7 0x10000 ∷ drive 94180 0 0x02a00 ∷ drive 94580 0 0x06a00 ∷ drive 94580 7 0x001c0 ∷ drive 94670 7 0x081c0 ∷ drive 94670 0 0x02a00 ∷ drive 94670 7 0x00000 ∷ drive 94670 0 0x00a00 ∷ drive 95070 0 0x04a00 ∷ drive 95070 7 0x0010a ∷ drive 95125 7 0x0810a ∷ drive 95125 0 0x00a00 ∷ drive 95125 7 0x00000 ∷ drive 95125 0 0x04a00 ∷ drive 95125 7 0x00100 ∷ drive 95180 7 0x08100 ∷ drive 95180 0 0x00a00 ∷ drive 95180 7 0x00000 ∷ drive 95180 0 0x04a00 ∷ drive 95180 7 0x00100 ∷ drive 95235 7 0x08100 ∷ drive 95235 0 0x00a00 ∷ drive 95235 7 0x00000 ∷ drive 95235 0 0x04a00 ∷ drive 95235 7 0x00001 ∷ drive 95290 7 0x08001 ∷ drive 95290 0 0x00a00 ∷ drive 95290 7 0x00000 ∷ drive 95290 0 0x04a00 ∷ drive 95290 7 0x00001 ∷ drive 95345 7 0x08001 ∷ drive 95345 0 0x00a00 ∷ drive 95345 7 0x00000 ∷ drive 95345 0 0x04a00 ∷ drive 95345 7 0x00100 ∷ drive 95400 7 0x08100 ∷ drive 95400 0 0x00a00 ∷ drive 95400 7 0x00000 ∷ drive 95400 0 0x03a00 ∷ drive 96200 0 0x03a04 ∷ drive 96255 0 0x07a04 ∷ drive 96255 7 0x08000 ∷ drive 96255 0 0x03a00 ∷ drive 96255 7 0x00000 ∷ drive 96255 0 0x00000 ∷ drive 97455 0 0x00201 ∷ drive 99855 0 0x00601 ∷ drive 101055 0 0x01781 ∷ drive 101145 0 0x01581 ∷ drive 101545 7 0x00200 ∷ drive 101545 0 0x01781 ∷ drive 101635 0 0x03a80 ∷ drive 101635 7 0x00000 ∷ drive 102035 0 0x07a80 ∷ drive 102035 7 0x08000 ∷ drive 102035 0 0x03a00 ∷ drive 102035 7 0x00000 ∷ drive 102035 0 0x00200 ∷ drive 102435 0 0x04200 ∷ drive 102435 7 0x00020 ∷ drive 102490 7 0x08020 ∷ drive 102490 0 0x00200 ∷ drive 102490 7 0x00000 ∷ drive 102490 0 0x04200 ∷ drive 102490 7 0x00121 ∷ drive 102545 7 0x08121 ∷ drive 102545 0 0x00200 ∷ drive 102545 7 0x00000 ∷ drive 102545 0 0x04200 ∷ drive 102545 7 0x00122 ∷ drive 102600 7 0x08122 ∷ drive 102600 0 0x00200 ∷ drive 102600 7 0x00000 ∷ drive 102600 0 0x04200 ∷ drive 102600 7 0x00023 ∷ drive 102655 7 0x08023 ∷ drive 102655 0 0x00200 ∷ drive 102655 7 0x00000 ∷ drive 102655 0 0x04200 ∷ drive 102655 7 0x00124 ∷ drive 102710 7 0x08124 ∷ drive 102710 0 0x00200 ∷ drive 102710 7 0x00000 ∷ drive 102710 0 0x04200 ∷ drive 102710 7 0x00025 ∷ drive 102765 7 0x08025 ∷ drive 102765 0 0x00200 ∷ drive 102765 7 0x00000 ∷ drive 102765 0 0x04200 ∷ drive 102765 7 0x00026 ∷ drive 102820 7 0x08026 ∷ drive 102820 0 0x00200 ∷ drive 102820 7 0x00000 ∷ drive 102820 0 0x04200 ∷ drive 102820 7 0x00127 ∷ drive 102875 7 0x08127 ∷ drive 102875 0 0x00200 ∷ drive 102875 7 0x00000 ∷ drive 102875 0 0x04200 ∷ drive 102875 7 0x00128 ∷ drive 102930 7 0x08128 ∷ drive 102930 0 0x00200 ∷ drive 102930 7 0x00000 ∷ drive 102930 0 0x04200 ∷ drive 102930 7 0x00029 ∷ drive 102985 7 0x08029 ∷ drive 102985 0 0x00200 ∷ drive 102985 7 0x00000 ∷ drive 102985 0 0x04200 ∷ drive 102985 7 0x0002a ∷ drive 103040 7 0x0802a ∷ drive 103040 0 0x00200 ∷ drive 103040 7 0x00000 ∷ drive 103040 0 0x04200 ∷ drive 103040 7 0x0012b ∷ drive 103095 7 0x0812b ∷ drive 103095 0 0x00200 ∷ drive 103095 7 0x00000 ∷ drive 103095 0 0x04200 ∷ drive 103095 7 0x0002c ∷ drive 103150 7 0x0802c ∷ drive 103150 0 0x00200 ∷ drive 103150 7 0x00000 ∷ drive 103150 0 0x04200 ∷ drive 103150 7 0x0012d ∷ drive 103205 7 0x0812d ∷ drive 103205 0 0x00200 ∷ drive 103205 7 0x00000 ∷ drive 103205 0 0x04200 ∷ drive 103205 7 0x0012e ∷ drive 103260 7 0x0812e ∷ drive 103260 0 0x00200 ∷ drive 103260 7 0x00000 ∷ drive 103260 0 0x04200 ∷ drive 103260 7 0x0002f ∷ drive 103315 7 0x0802f ∷ drive 103315 0 0x00200 ∷ drive 103315 7 0x00000 ∷ drive 103315 0 0x01a00 ∷ drive 104115 0 0x01b00 ∷ drive 104170 0 0x05b00 ∷ drive 104170 7 0x08000 ∷ drive 104170 0 0x01a00 ∷ drive 104170 7 0x00000 ∷ drive 104170 0 0x03b00 ∷ drive 104570 0 0x07b00 ∷ drive 104570 7 0x08000 ∷ drive 104570 0 0x03a00 ∷ drive 104570 7 0x00000 ∷ drive 104570 0 0x00000 ∷ drive 130000 7 0x00280 ∷ drive 132400 7 0x00680 ∷ drive 133600 7 0x10781 ∷ drive 133690 7 0x10581 ∷ drive 134090 0 0x00200 ∷ drive 134180 7 0x10000 ∷ drive 134180 0 0x02a00 ∷ drive 134580 0 0x06a00 ∷ drive 134580 7 0x001c0 ∷ drive 134670 7 0x081c0 ∷ drive 134670 0 0x02a00 ∷ drive 134670 7 0x00000 ∷ drive 134670 0 0x00a00 ∷ drive 135070 0 0x04a00 ∷ drive 135070 7 0x00025 ∷ drive 135125 7 0x08025 ∷ drive 135125 0 0x00a00 ∷ drive 135125 7 0x00000 ∷ drive 135125 0 0x04a00 ∷ drive 135125 7 0x00100 ∷ drive 135180 7 0x08100 ∷ drive 135180 0 0x00a00 ∷ drive 135180 7 0x00000 ∷ drive 135180 0 0x04a00 ∷ drive 135180 7 0x00100 ∷ drive 135235 7 0x08100 ∷ drive 135235 0 0x00a00 ∷ drive 135235 7 0x00000 ∷ drive 135235 0 0x04a00 ∷ drive 135235 7 0x00100 ∷ drive 135290 7 0x08100 ∷ drive 135290 0 0x00a00 ∷ drive 135290 7 0x00000 ∷ drive 135290 0 0x04a00 ∷ drive 135290 7 0x00100 ∷ drive 135345 7 0x08100 ∷ drive 135345 0 0x00a00 ∷ drive 135345 7 0x00000 ∷ drive 135345 0 0x04a00 ∷ drive 135345 7 0x00100 ∷ drive 135400 7 0x08100 ∷ drive 135400 0 0x00a00 ∷ drive 135400 7 0x00000 ∷ drive 135400 0 0x04a00 ∷ drive 135400 7 0x00100 ∷ drive 135455 7 0x08100 ∷ drive 135455 0 0x00a00 ∷ drive 135455 7 0x00000 ∷ drive 135455 0 0x04a00 ∷ drive 135455 7 0x00100 ∷ drive 135510 7 0x08100 ∷ drive 135510 0 0x00a00 ∷ drive 135510 7 0x00000 ∷ drive 135510 0 0x04a00 ∷ drive 135510 7 0x00100 ∷ drive 135565 7 0x08100 ∷ drive 135565 0 0x00a00 ∷ drive 135565 7 0x00000 ∷ drive 135565 0 0x04a00 ∷ drive 135565 7 0x00100 ∷ drive 135620 7 0x08100 ∷ drive 135620 0 0x00a00 ∷ drive 135620 7 0x00000 ∷ drive 135620 0 0x03a00 ∷ drive 136420 0 0x03a04 ∷ drive 136475 0 0x07a04 ∷ drive 136475 7 0x08000 ∷ drive 136475 0 0x03a00 ∷ drive 136475 7 0x00000 ∷ drive 136475 0 0x00000 ∷ drive 137675 0 0x00201 ∷ drive 140075 0 0x00601 ∷ drive 141275 0 0x01781 ∷ drive 141365 0 0x01581 ∷ drive 141765 7 0x00200 ∷ drive 141765 0 0x01781 ∷ drive 141855 0 0x03a80 ∷ drive 141855 7 0x00000 ∷ drive 142255 0 0x07a80 ∷ drive 142255 7 0x08000 ∷ drive 142255 0 0x03a00 ∷ drive 142255 7 0x00000 ∷ drive 142255 0 0x01300 ∷ drive 142655 0 0x05300 ∷ drive 142655 7 0x08000 ∷ drive 142655 0 0x01300 ∷ drive 142655 7 0x00000 ∷ drive 142710 0 0x05300 ∷ drive 142710 7 0x08000 ∷ drive 142710 0 0x01300 ∷ drive 142710 7 0x00000 ∷ drive 142765 0 0x05300 ∷ drive 142765 7 0x08000 ∷ drive 142765 0 0x01201 ∷ drive 142765 7 0x00000 ∷ drive 142820 0 0x05201 ∷ drive 142820 7 0x08000 ∷ drive 142820 0 0x01300 ∷ drive 142820 7 0x00000 ∷ drive 142875 0 0x05300 ∷ drive 142875 7 0x08000 ∷ drive 142875 0 0x01300 ∷ drive 142875 7 0x00000 ∷ drive 142930 0 0x05300 ∷ drive 142930 7 0x08000 ∷ drive 142930 0 0x01300 ∷ drive 142930 7 0x00000 ∷ drive 142985 0 0x05300 ∷ drive 142985 7 0x08000 ∷ drive 142985 0 0x01210 ∷ drive 142985 7 0x00000 ∷ drive 143040 0 0x05210 ∷ drive 143040 7 0x08000 ∷ drive 143040 0 0x01200 ∷ drive 143040 7 0x00000 ∷ drive 143040 0 0x01b00 ∷ drive 143440 0 0x05b00 ∷ drive 143440 7 0x08000 ∷ drive 143440 0 0x01a00 ∷ drive 143440 7 0x00000 ∷ drive 143440 0 0x03b00 ∷ drive 143840 0 0x07b00 ∷ drive 143840 7 0x08000 ∷ drive 143840 0 0x03a00 ∷ drive 143840 7 0x00000 ∷ drive 143840 0 0x00000 ∷ []

abbrev reset_run_events : List Event
reset_run_events = events.Reset 7 ∷ events.Accept (command 1) ∷ events.Run (command 1) ∷ events.End (command 1) 2 ∷ events.Accept (sense 1) ∷ events.Run (sense 1) ∷ events.End (sense 1) 0 ∷ events.Accept (command 2) ∷ events.Run (command 2) ∷ events.End (command 2) 0 ∷ events.Accept (command 3) ∷ events.Run (command 3) ∷ events.End (command 3) 0 ∷ []

reset_run_told : shown reset_run (story reset_run (reverse reset_run_rows)) (reverse reset_run_events) ≡ record { history = reverse reset_run_events; ends = Some (ended_check (Some (sense_of 6 41 0))) ∷ Some (ended_good ([])) ∷ Some (ended_good (0 ∷ 0 ∷ 0 ∷ 1 ∷ 0 ∷ 0 ∷ 0 ∷ 16 ∷ [])) ∷ []; carried = true }
unfolding need_of sent_of ones union_below line_of form_out form_in
reset_run_told = refl

-- ---- resets_with_queues_run

abbrev resets_with_queues_run : ScenarioValue
resets_with_queues_run = record {
  version = 1;
  hosts = record { dev = 2; latency = 37; most = 1; retries = 0; period = 0; offset = 5; lag = 0; offers = true } ∷ record { dev = 7; latency = 100; most = 8; retries = 1; period = 0; offset = 0; lag = 0; offers = true } ∷ record { dev = 4; latency = 0; most = 2; retries = 1; period = 0; offset = 0; lag = 100; offers = true } ∷ record { dev = 5; latency = 0; most = 4; retries = 5; period = 0; offset = 5; lag = 100; offers = true } ∷ [];
  targets = record { dev = 1; latency = 100; retries = 5; disc = policies.Burst 3; pick = picks.Last; seek = 100000; period = 0; offset = 0; begins = false } ∷ [];
  units = record { target = 1; unit = 3; blocks = 2; size = 32; depth = 4 } ∷ record { target = 1; unit = 6; blocks = 8; size = 32; depth = 1 } ∷ [];
  fills = record { target = 1; unit = 3; lba = 0; bytes = (0 ∷ 95 ∷ 226 ∷ 188 ∷ 68 ∷ 113 ∷ 249 ∷ 0 ∷ 0 ∷ 139 ∷ 0 ∷ 163 ∷ 186 ∷ 247 ∷ 0 ∷ 0 ∷ 106 ∷ 11 ∷ 92 ∷ 0 ∷ 0 ∷ 253 ∷ 153 ∷ 90 ∷ 184 ∷ 0 ∷ 0 ∷ 0 ∷ 18 ∷ 0 ∷ 130 ∷ 120 ∷ []) } ∷ record { target = 1; unit = 6; lba = 0; bytes = (114 ∷ 0 ∷ 167 ∷ 0 ∷ 86 ∷ 0 ∷ 130 ∷ 101 ∷ 63 ∷ 220 ∷ 0 ∷ 204 ∷ 181 ∷ 36 ∷ 0 ∷ 0 ∷ 0 ∷ 118 ∷ 186 ∷ 38 ∷ 0 ∷ 106 ∷ 167 ∷ 154 ∷ 15 ∷ 95 ∷ 177 ∷ 78 ∷ 31 ∷ 126 ∷ 49 ∷ 0 ∷ []) } ∷ record { target = 1; unit = 6; lba = 7; bytes = (0 ∷ 231 ∷ 0 ∷ 0 ∷ 0 ∷ 0 ∷ 127 ∷ 190 ∷ 0 ∷ 225 ∷ 29 ∷ 125 ∷ 0 ∷ 245 ∷ 87 ∷ 151 ∷ 0 ∷ 0 ∷ 23 ∷ 187 ∷ 112 ∷ 0 ∷ 4 ∷ 138 ∷ 0 ∷ 221 ∷ 167 ∷ 253 ∷ 99 ∷ 67 ∷ 229 ∷ 144 ∷ []) } ∷ [];
  tapes = [];
  loads = [];
  commands = record { host = 4; target = 1; unit = 6; at = 0; tag = tags.Untagged; cdb = (8 ∷ 0 ∷ 0 ∷ 4 ∷ 2 ∷ 0 ∷ []); payload = payloads.Nothing } ∷ record { host = 7; target = 1; unit = 6; at = 0; tag = tags.Head 1; cdb = (10 ∷ 0 ∷ 0 ∷ 4 ∷ 1 ∷ 0 ∷ []); payload = payloads.From 138 } ∷ record { host = 5; target = 1; unit = 6; at = 0; tag = tags.Simple 2; cdb = (0 ∷ 0 ∷ 0 ∷ 0 ∷ 0 ∷ 0 ∷ []); payload = payloads.Nothing } ∷ record { host = 7; target = 1; unit = 6; at = 0; tag = tags.Untagged; cdb = (10 ∷ 0 ∷ 0 ∷ 5 ∷ 2 ∷ 0 ∷ []); payload = payloads.From 137 } ∷ record { host = 7; target = 1; unit = 3; at = 0; tag = tags.Simple 1; cdb = (8 ∷ 0 ∷ 0 ∷ 1 ∷ 1 ∷ 0 ∷ []); payload = payloads.Nothing } ∷ [];
  aborts = record { host = 5; target = 1; unit = 3; at = 301040; what = aborts.All } ∷ record { host = 7; target = 1; unit = 6; at = 120728; what = aborts.Device } ∷ record { host = 5; target = 1; unit = 6; at = 314639; what = aborts.WholeQueue } ∷ [];
  resets = record { dev = 5; at = 120745 } ∷ [];
  faults = record { at = 172497; bit = 6 } ∷ record { at = 213944; bit = 0 } ∷ record { at = 279541; bit = 8 } ∷ [];
}

abbrev pub resets_with_queues_run_rows : List Row
resets_with_queues_run_rows = drive 1200 5 0x00220 ∷ drive 1200 4 0x00210 ∷ drive 1300 7 0x00280 ∷ drive 3800 7 0x00680 ∷ drive 3800 5 0x00000 ∷ drive 3800 4 0x00000 ∷ drive 5100 7 0x10782 ∷ drive 5290 7 0x10582 ∷ drive 5790 1 0x00200 ∷ drive 5980 7 0x10000 ∷ drive 6080 1 0x02a00 ∷ drive 6580 1 0x06a00 ∷ drive 6680 7 0x101c6 ∷ drive 6835 7 0x181c6 ∷ drive 6935 1 0x02a00 ∷ drive 7035 7 0x10000 ∷ drive 7135 1 0x06a00 ∷ drive 7235 7 0x10121 ∷ drive 7390 7 0x18121 ∷ drive 7490 1 0x02a00 ∷ drive 7590 7 0x10000 ∷ drive 7690 1 0x06a00 ∷ drive 7790 7 0x00001 ∷ drive 7980 7 0x08001 ∷ drive 8080 1 0x02a00 ∷ drive 8180 7 0x00000 ∷ drive 8280 1 0x00a00 ∷ drive 8780 1 0x04a00 ∷ drive 8880 7 0x0010a ∷ drive 9035 7 0x0810a ∷ drive 9135 1 0x00a00 ∷ drive 9235 7 0x00000 ∷ drive 9335 1 0x04a00 ∷ drive 9435 7 0x00100 ∷ drive 9590 7 0x08100 ∷ drive 9690 1 0x00a00 ∷ drive 9790 7 0x00000 ∷ drive 9890 1 0x04a00 ∷ drive 9990 7 0x00100 ∷ drive 10145 7 0x08100 ∷ drive 10245 1 0x00a00 ∷ drive 10345 7 0x00000 ∷ drive 10445 1 0x04a00 ∷ drive 10545 7 0x00004 ∷ drive 10700 7 0x08004 ∷ drive 10800 1 0x00a00 ∷ drive 10900 7 0x00000 ∷ drive 11000 1 0x04a00 ∷ drive 11100 7 0x00001 ∷ drive 11255 7 0x08001 ∷ drive 11355 1 0x00a00 ∷ drive 11455 7 0x00000 ∷ drive 11555 1 0x04a00 ∷ drive 11655 7 0x00100 ∷ drive 11810 7 0x08100 ∷ drive 11910 1 0x00a00 ∷ drive 12010 7 0x00000 ∷ drive 12110 1 0x03a00 ∷ drive 13010 1 0x03a04 ∷ drive 13165 1 0x07a04 ∷ drive 13265 7 0x08000 ∷ drive 13365 1 0x03a00 ∷ drive 13465 7 0x00000 ∷ drive 13565 1 0x00000 ∷ drive 14765 5 0x00220 ∷ drive 14765 4 0x00210 ∷ drive 17165 5 0x00620 ∷ drive 17165 4 0x00000 ∷ drive 18365 5 0x10722 ∷ drive 18455 5 0x10522 ∷ drive 18955 1 0x00200 ∷ drive 19045 5 0x10000 ∷ drive 19145 1 0x02a00 ∷ drive 19645 1 0x06a00 ∷ drive 19645 5 0x101c6 ∷ drive 19700 5 0x181c6 ∷ drive 19800 1 0x02a00 ∷ drive 19800 5 0x10000 ∷ drive 19900 1 0x06a00 ∷ drive 19900 5 0x10020 ∷ drive 19955 5 0x18020 ∷ drive 20055 1 0x02a00 ∷ drive 20055 5 0x10000 ∷ drive 20155 1 0x06a00 ∷ drive 20155 5 0x00002 ∷ drive 20245 5 0x08002 ∷ drive 20345 1 0x02a00 ∷ drive 20345 5 0x00000 ∷ drive 20445 1 0x00a00 ∷ drive 20945 1 0x04a00 ∷ drive 20945 5 0x00100 ∷ drive 21000 5 0x08100 ∷ drive 21100 1 0x00a00 ∷ drive 21100 5 0x00000 ∷ drive 21200 1 0x04a00 ∷ drive 21200 5 0x00100 ∷ drive 21255 5 0x08100 ∷ drive 21355 1 0x00a00 ∷ drive 21355 5 0x00000 ∷ drive 21455 1 0x04a00 ∷ drive 21455 5 0x00100 ∷ drive 21510 5 0x08100 ∷ drive 21610 1 0x00a00 ∷ drive 21610 5 0x00000 ∷ drive 21710 1 0x04a00 ∷ drive 21710 5 0x00100 ∷ drive 21765 5 0x08100 ∷ drive 21865 1 0x00a00 ∷ drive 21865 5 0x00000 ∷ drive 21965 1 0x04a00 ∷ drive 21965 5 0x00100 ∷ drive 22020 5 0x08100 ∷ drive 22120 1 0x00a00 ∷ drive 22120 5 0x00000 ∷ drive 22220 1 0x04a00 ∷ drive 22220 5 0x00100 ∷ drive 22275 5 0x08100 ∷ drive 22375 1 0x00a00 ∷ drive 22375 5 0x00000 ∷ drive 22475 1 0x01a00 ∷ drive 23375 1 0x01b28 ∷ drive 23530 1 0x05b28 ∷ drive 23530 5 0x08000 ∷ drive 23630 1 0x01a00 ∷ drive 23630 5 0x00000 ∷ drive 23730 1 0x03b00 ∷ drive 24230 1 0x07b00 ∷ drive 24230 5 0x08000 ∷ drive 24330 1 0x03a00 ∷ drive 24330 5 0x00000 ∷ drive 24430 1 0x00000 ∷ drive 25630 4 0x00210 ∷ drive 28030 4 0x00610 ∷ drive 29230 4 0x10712 ∷ drive 29320 4 0x10512 ∷ drive 29820 1 0x00200 ∷ drive 29910 4 0x10000 ∷ drive 30010 1 0x02a00 ∷ drive 30510 1 0x06a00 ∷ drive 30510 4 0x001c6 ∷ drive 30600 4 0x081c6 ∷ drive 30700 1 0x02a00 ∷ drive 30700 4 0x00000 ∷ drive 30800 1 0x00a00 ∷ drive 31300 1 0x04a00 ∷ drive 31300 4 0x00008 ∷ drive 31355 4 0x08008 ∷ drive 31455 1 0x00a00 ∷ drive 31455 4 0x00000 ∷ drive 31555 1 0x04a00 ∷ drive 31555 4 0x00100 ∷ drive 31610 4 0x08100 ∷ drive 31710 1 0x00a00 ∷ drive 31710 4 0x00000 ∷ drive 31810 1 0x04a00 ∷ drive 31810 4 0x00100 ∷ drive 31865 4 0x08100 ∷ drive 31965 1 0x00a00 ∷ drive 31965 4 0x00000 ∷ drive 32065 1 0x04a00 ∷ drive 32065 4 0x00004 ∷ drive 32120 4 0x08004 ∷ drive 32220 1 0x00a00 ∷ drive 32220 4 0x00000 ∷ drive 32320 1 0x04a00 ∷ drive 32320 4 0x00002 ∷ drive 32375 4 0x08002 ∷ drive 32475 1 0x00a00 ∷ drive 32475 4 0x00000 ∷ drive 32575 1 0x04a00 ∷ drive 32575 4 0x00100 ∷ drive 32630 4 0x08100 ∷ drive 32730 1 0x00a00 ∷ drive 32730 4 0x00000 ∷ drive 32830 1 0x01a00 ∷ drive 33730 1 0x01b28 ∷ drive 33885 1 0x05b28 ∷ drive 33885 4 0x08000 ∷ drive 33985 1 0x01a00 ∷ drive 33985 4 0x00000 ∷ drive 34085 1 0x03b00 ∷ drive 34585 1 0x07b00 ∷ drive 34585 4 0x08000 ∷ drive 34685 1 0x03a00 ∷ drive 34685 4 0x00000 ∷ drive 34785 1 0x00000 ∷ drive 112210 1 0x00202 ∷ drive 114710 1 0x00602 ∷ drive 116010 1 0x01782 ∷ drive 116200 1 0x01582 ∷ drive 116700 7 0x00200 ∷ drive 116800 1 0x01782 ∷ drive 116990 1 0x03a86 ∷ drive 117090 7 0x00000 ∷ drive 117490 1 0x07a86 ∷ drive 117590 7 0x08000 ∷ drive 117690 1 0x03a20 ∷ drive 117790 7 0x00000 ∷ drive 117890 1 0x07a20 ∷ drive 117990 7 0x08000 ∷ drive 118090 1 0x03a01 ∷ drive 118190 7 0x00000 ∷ drive 118290 1 0x07a01 ∷ drive 118390 7 0x08000 ∷ drive 118490 1 0x03a00 ∷ drive 118590 7 0x00000 ∷ drive 118690 1 0x00200 ∷ drive 119190 1 0x04200 ∷ drive 119290 7 0x0008a ∷ drive 119445 7 0x0808a ∷ drive 119545 1 0x00200 ∷ drive 119645 7 0x00000 ∷ drive 119745 1 0x04200 ∷ drive 119845 7 0x0018b ∷ drive 120000 7 0x0818b ∷ drive 120100 1 0x00200 ∷ drive 120200 7 0x00000 ∷ drive 120300 1 0x04200 ∷ drive 120400 7 0x0008c ∷ drive 120555 7 0x0808c ∷ drive 120655 1 0x00200 ∷ drive 120745 5 0x20000 ∷ drive 120845 7 0x00000 ∷ drive 120845 1 0x00000 ∷ drive 145745 5 0x00000 ∷ drive 147045 7 0x00280 ∷ drive 149545 7 0x00680 ∷ drive 150845 7 0x10782 ∷ drive 151035 7 0x10582 ∷ drive 151535 1 0x00200 ∷ drive 151725 7 0x10000 ∷ drive 151825 1 0x02a00 ∷ drive 152325 1 0x06a00 ∷ drive 152425 7 0x10086 ∷ drive 152580 7 0x18086 ∷ drive 152680 1 0x02a00 ∷ drive 152780 7 0x10000 ∷ drive 152880 1 0x06a00 ∷ drive 152980 7 0x0010c ∷ drive 153170 7 0x0810c ∷ drive 153270 1 0x02a00 ∷ drive 153370 7 0x00000 ∷ drive 153470 1 0x00000 ∷ drive 154770 7 0x00280 ∷ drive 157270 7 0x00680 ∷ drive 158570 7 0x10782 ∷ drive 158760 7 0x10582 ∷ drive 159260 1 0x00200 ∷ drive 159450 7 0x10000 ∷ drive 159550 1 0x02a00 ∷ drive 160050 1 0x06a00 ∷ drive 160150 7 0x001c6 ∷ drive 160340 7 0x081c6 ∷ drive 160440 1 0x02a00 ∷ drive 160540 7 0x00000 ∷ drive 160640 1 0x00a00 ∷ drive 161140 1 0x04a00 ∷ drive 161240 7 0x0010a ∷ drive 161395 7 0x0810a ∷ drive 161495 1 0x00a00 ∷ drive 161595 7 0x00000 ∷ drive 161695 1 0x04a00 ∷ drive 161795 7 0x00100 ∷ drive 161950 7 0x08100 ∷ drive 162050 1 0x00a00 ∷ drive 162150 7 0x00000 ∷ drive 162250 1 0x04a00 ∷ drive 162350 7 0x00100 ∷ drive 162505 7 0x08100 ∷ drive 162605 1 0x00a00 ∷ drive 162705 7 0x00000 ∷ drive 162805 1 0x04a00 ∷ drive 162905 7 0x00105 ∷ drive 163060 7 0x08105 ∷ drive 163160 1 0x00a00 ∷ drive 163260 7 0x00000 ∷ drive 163360 1 0x04a00 ∷ drive 163460 7 0x00002 ∷ drive 163615 7 0x08002 ∷ drive 163715 1 0x00a00 ∷ drive 163815 7 0x00000 ∷ drive 163915 1 0x04a00 ∷ drive 164015 7 0x00100 ∷ drive 164170 7 0x08100 ∷ drive 164270 1 0x00a00 ∷ drive 164370 7 0x00000 ∷ drive 164470 1 0x03a00 ∷ drive 165370 1 0x03a04 ∷ drive 165525 1 0x07a04 ∷ drive 165625 7 0x08000 ∷ drive 165725 1 0x03a00 ∷ drive 165825 7 0x00000 ∷ drive 165925 1 0x00000 ∷ drive 167225 7 0x00280 ∷ drive 169725 7 0x00680 ∷ drive 171025 7 0x10782 ∷ drive 171215 7 0x10582 ∷ drive 171715 1 0x00200 ∷ drive 171905 7 0x10000 ∷ drive 172005 1 0x02a00 ∷ drive 172505 1 0x06a00 ∷ drive 172605 7 0x101c3 ∷ drive 172760 7 0x181c3 ∷ strike 172760 1 6 ∷ drive 172860 1 0x02a00 ∷ drive 172960 7 0x10000 ∷ drive 173060 1 0x06a00 ∷ drive 173160 7 0x10020 ∷ drive 173315 7 0x18020 ∷ drive 173415 1 0x02a00 ∷ drive 173515 7 0x10000 ∷ drive 173615 1 0x06a00 ∷ drive 173715 7 0x00001 ∷ drive 173905 7 0x08001 ∷ drive 174005 1 0x02a00 ∷ drive 174105 7 0x00000 ∷ drive 174205 1 0x06a00 ∷ drive 174305 7 0x101c3 ∷ drive 174495 7 0x181c3 ∷ drive 174595 1 0x02a00 ∷ drive 174695 7 0x10000 ∷ drive 174795 1 0x06a00 ∷ drive 174895 7 0x10020 ∷ drive 175050 7 0x18020 ∷ drive 175150 1 0x02a00 ∷ drive 175250 7 0x10000 ∷ drive 175350 1 0x06a00 ∷ drive 175450 7 0x00001 ∷ drive 175640 7 0x08001 ∷ drive 175740 1 0x02a00 ∷ drive 175840 7 0x00000 ∷ drive 175940 1 0x00a00 ∷ drive 176440 1 0x04a00 ∷ drive 176540 7 0x00008 ∷ drive 176695 7 0x08008 ∷ drive 176795 1 0x00a00 ∷ drive 176895 7 0x00000 ∷ drive 176995 1 0x04a00 ∷ drive 177095 7 0x00100 ∷ drive 177250 7 0x08100 ∷ drive 177350 1 0x00a00 ∷ drive 177450 7 0x00000 ∷ drive 177550 1 0x04a00 ∷ drive 177650 7 0x00100 ∷ drive 177805 7 0x08100 ∷ drive 177905 1 0x00a00 ∷ drive 178005 7 0x00000 ∷ drive 178105 1 0x04a00 ∷ drive 178205 7 0x00001 ∷ drive 178360 7 0x08001 ∷ drive 178460 1 0x00a00 ∷ drive 178560 7 0x00000 ∷ drive 178660 1 0x04a00 ∷ drive 178760 7 0x00001 ∷ drive 178915 7 0x08001 ∷ drive 179015 1 0x00a00 ∷ drive 179115 7 0x00000 ∷ drive 179215 1 0x04a00 ∷ drive 179315 7 0x00100 ∷ drive 179470 7 0x08100 ∷ drive 179570 1 0x00a00 ∷ drive 179670 7 0x00000 ∷ drive 179770 1 0x03a00 ∷ drive 180670 1 0x03a04 ∷ drive 180825 1 0x07a04 ∷ drive 180925 7 0x08000 ∷ drive 181025 1 0x03a00 ∷ drive 181125 7 0x00000 ∷ drive 181225 1 0x00000 ∷ drive 264570 1 0x00202 ∷ drive 267070 1 0x00602 ∷ drive 268370 1 0x01782 ∷ drive 268560 1 0x01582 ∷ strike 269060 7 0 ∷ drive 250268660 1 0x01400 ∷ drive 250468850 1 0x00000 ∷ drive 250470050 5 0x00220 ∷ drive 250470150 1 0x00202 ∷ drive 250472450 5 0x00620 ∷ drive 250472550 1 0x00000 ∷ drive 250473650 5 0x10722 ∷ drive 250473740 5 0x10522 ∷ strike 250474240 1 8 ∷ drive 500473740 5 0x10400 ∷ drive 500673830 5 0x00000 ∷ drive 500675030 5 0x00220 ∷ drive 500675130 1 0x00202 ∷ drive 500677430 5 0x00620 ∷ drive 500677530 1 0x00000 ∷ drive 500678630 5 0x10722 ∷ drive 500678720 5 0x10522 ∷ drive 500679220 1 0x00200 ∷ drive 500679310 5 0x10000 ∷ drive 500679410 1 0x02a00 ∷ drive 500679910 1 0x06a00 ∷ drive 500679910 5 0x10083 ∷ drive 500679965 5 0x18083 ∷ drive 500680065 1 0x02a00 ∷ drive 500680065 5 0x10000 ∷ drive 500680165 1 0x06a00 ∷ drive 500680165 5 0x00106 ∷ drive 500680255 5 0x08106 ∷ drive 500680355 1 0x02a00 ∷ drive 500680355 5 0x00000 ∷ drive 500680455 1 0x00000 ∷ drive 500681655 5 0x00220 ∷ drive 500681755 1 0x00202 ∷ drive 500684055 5 0x00620 ∷ drive 500684155 1 0x00000 ∷ drive 500685255 5 0x10722 ∷ drive 500685345 5 0x10522 ∷ drive 500685845 1 0x00200 ∷ drive 500685935 5 0x10000 ∷ drive 500686035 1 0x02a00 ∷ drive 500686535 1 0x06a00 ∷ drive 500686535 5 0x10086 ∷ drive 500686590 5 0x18086 ∷ drive 500686690 1 0x02a00 ∷ drive 500686690 5 0x10000 ∷ drive 500686790 1 0x06a00 ∷ drive 500686790 5 0x0000e ∷ drive 500686880 5 0x0800e ∷ drive 500686980 1 0x02a00 ∷ drive 500686980 5 0x00000 ∷ drive 500687080 1 0x00000 ∷ drive 500688380 1 0x00202 ∷ drive 500690880 1 0x00602 ∷ drive 500692180 1 0x01782 ∷ drive 500692370 1 0x01582 ∷ drive 500692870 7 0x00200 ∷ drive 500692970 1 0x01782 ∷ drive 500693160 1 0x03a83 ∷ drive 500693260 7 0x00000 ∷ drive 500693660 1 0x07a83 ∷ drive 500693760 7 0x08000 ∷ drive 500693860 1 0x03a20 ∷ drive 500693960 7 0x00000 ∷ drive 500694060 1 0x07a20 ∷ drive 500694160 7 0x08000 ∷ drive 500694260 1 0x03a01 ∷ drive 500694360 7 0x00000 ∷ drive 500694460 1 0x07a01 ∷ drive 500694560 7 0x08000 ∷ drive 500694660 1 0x03a00 ∷ drive 500694760 7 0x00000 ∷ drive 500694860 1 0x01a02 ∷ drive 500695360 1 0x05a02 ∷ drive 500695460 7 0x08000 ∷ drive 500695560 1 0x01a00 ∷ drive 500695660 7 0x00000 ∷ drive 500695760 1 0x03b00 ∷ drive 500696260 1 0x07b00 ∷ drive 500696360 7 0x08000 ∷ drive 500696460 1 0x03a00 ∷ drive 500696560 7 0x00000 ∷ drive 500696660 1 0x00000 ∷ drive 500697960 7 0x00280 ∷ drive 500700460 7 0x00680 ∷ drive 500701760 7 0x10782 ∷ drive 500701950 7 0x10582 ∷ drive 500702450 1 0x00200 ∷ drive 500702640 7 0x10000 ∷ drive 500702740 1 0x02a00 ∷ drive 500703240 1 0x06a00 ∷ drive 500703340 7 0x00083 ∷ drive 500703530 7 0x08083 ∷ drive 500703630 1 0x02a00 ∷ drive 500703730 7 0x00000 ∷ drive 500703830 1 0x00a00 ∷ drive 500704330 1 0x04a00 ∷ drive 500704430 7 0x00103 ∷ drive 500704585 7 0x08103 ∷ drive 500704685 1 0x00a00 ∷ drive 500704785 7 0x00000 ∷ drive 500704885 1 0x04a00 ∷ drive 500704985 7 0x00100 ∷ drive 500705140 7 0x08100 ∷ drive 500705240 1 0x00a00 ∷ drive 500705340 7 0x00000 ∷ drive 500705440 1 0x04a00 ∷ drive 500705540 7 0x00100 ∷ drive 500705695 7 0x08100 ∷ drive 500705795 1 0x00a00 ∷ drive 500705895 7 0x00000 ∷ drive 500705995 1 0x04a00 ∷ drive 500706095 7 0x00100 ∷ drive 500706250 7 0x08100 ∷ drive 500706350 1 0x00a00 ∷ drive 500706450 7 0x00000 ∷ drive 500706550 1 0x04a00 ∷ drive 500706650 7 0x00112 ∷ drive 500706805 7 0x08112 ∷ drive 500706905 1 0x00a00 ∷ drive 500707005 7 0x00000 ∷ drive 500707105 1 0x04a00 ∷ drive 500707205 7 0x00100 ∷ drive 500707360 7 0x08100 ∷ drive 500707460 1 0x00a00 ∷ drive 500707560 7 0x00000 ∷ drive 500707660 1 0x01200 ∷ drive 500708560 1 0x01270 ∷ drive 500708715 1 0x05270 ∷ drive 500708815 7 0x08000 ∷ drive 500708915 1 0x01300 ∷ drive 500709015 7 0x00000 ∷ drive 500709115 1 0x05300 ∷ drive 500709215 7 0x08000 ∷ drive 500709315 1 0x01306 ∷ drive 500709415 7 0x00000 ∷ drive 500709515 1 0x05306 ∷ drive 500709615 7 0x08000 ∷ drive 500709715 1 0x01300 ∷ drive 500709815 7 0x00000 ∷ drive 500709915 1 0x05300 ∷ drive 500710015 7 0x08000 ∷ drive 500710115 1 0x01300 ∷ drive 500710215 7 0x00000 ∷ drive 500710315 1 0x05300 ∷ drive 500710415 7 0x08000 ∷ drive 500710515 1 0x01300 ∷ drive 500710615 7 0x00000 ∷ drive 500710715 1 0x05300 ∷ drive 500710815 7 0x08000 ∷ drive 500710915 1 0x01300 ∷ drive 500711015 7 0x00000 ∷ drive 500711115 1 0x05300 ∷ drive 500711215 7 0x08000 ∷ drive 500711315 1 0x0130a ∷ drive 500711415 7 0x00000 ∷ drive 500711515 1 0x0530a ∷ drive 500711615 7 0x08000 ∷ drive 500711715 1 0x01300 ∷ drive 500711815 7 0x00000 ∷ drive 500711915 1 0x05300 ∷ drive 500712015 7 0x08000 ∷ drive 500712115 1 0x01300 ∷ drive 500712215 7 0x00000 ∷ drive 500712315 1 0x05300 ∷ drive 500712415 7 0x08000 ∷ drive 500712515 1 0x01300 ∷ drive 500712615 7 0x00000 ∷ drive 500712715 1 0x05300 ∷ drive 500712815 7 0x08000 ∷ drive 500712915 1 0x01300 ∷ drive 500713015 7 0x00000 ∷ drive 500713115 1 0x05300 ∷ drive 500713215 7 0x08000 ∷ drive 500713315 1 0x01229 ∷ drive 500713415 7 0x00000 ∷ drive 500713515 1 0x05229 ∷ drive 500713615 7 0x08000 ∷ drive 500713715 1 0x01300 ∷ drive 500713815 7 0x00000 ∷ drive 500713915 1 0x05300 ∷ drive 500714015 7 0x08000 ∷ drive 500714115 1 0x01300 ∷ drive 500714215 7 0x00000 ∷ drive 500714315 1 0x05300 ∷ drive 500714415 7 0x08000 ∷ drive 500714515 1 0x01300 ∷ drive 500714615 7 0x00000 ∷ drive 500714715 1 0x05300 ∷ drive 500714815 7 0x08000 ∷ drive 500714915 1 0x01300 ∷ drive 500715015 7 0x00000 ∷ drive 500715115 1 0x05300 ∷ drive 500715215 7 0x08000 ∷ drive 500715315 1 0x01300 ∷ drive 500715415 7 0x00000 ∷ drive 500715515 1 0x05300 ∷ drive 500715615 7 0x08000 ∷ drive 500715715 1 0x01200 ∷ drive 500715815 7 0x00000 ∷ drive 500715915 1 0x01b00 ∷ drive 500716415 1 0x05b00 ∷ drive 500716515 7 0x08000 ∷ drive 500716615 1 0x01a00 ∷ drive 500716715 7 0x00000 ∷ drive 500716815 1 0x03b00 ∷ drive 500717315 1 0x07b00 ∷ drive 500717415 7 0x08000 ∷ drive 500717515 1 0x03a00 ∷ drive 500717615 7 0x00000 ∷ drive 500717715 1 0x00000 ∷ []

abbrev resets_with_queues_run_events : List Event
resets_with_queues_run_events = events.Accept (command 2) ∷ events.Refuse (command 3) ∷ events.End (command 3) 40 ∷ events.Refuse (command 1) ∷ events.End (command 1) 40 ∷ events.Reset 5 ∷ events.Aborted 7 1 6 aborts.Device ∷ events.Accept (command 4) ∷ events.Accept (command 5) ∷ events.Aborted 5 1 3 aborts.All ∷ events.Aborted 5 1 6 aborts.WholeQueue ∷ events.Run (command 5) ∷ events.End (command 5) 2 ∷ events.Accept (sense 5) ∷ events.Run (sense 5) ∷ events.End (sense 5) 0 ∷ []

resets_with_queues_run_told : shown resets_with_queues_run (story resets_with_queues_run (reverse resets_with_queues_run_rows)) (reverse resets_with_queues_run_events) ≡ record { history = reverse resets_with_queues_run_events; ends = Some (ended_full) ∷ Some (ended_reset) ∷ Some (ended_full) ∷ Some (ended_aborted) ∷ Some (ended_check (Some (sense_of 6 41 0))) ∷ []; carried = true }
unfolding need_of sent_of ones union_below line_of form_out form_in
resets_with_queues_run_told = refl

resets_with_queues_run_struck : expected_strikes resets_with_queues_run (reverse resets_with_queues_run_rows) ≡ row_strikes resets_with_queues_run_rows
unfolding need_of sent_of ones union_below line_of form_out form_in
resets_with_queues_run_struck = refl

-- ---- sense_cut_run

abbrev sense_cut_run : ScenarioValue
sense_cut_run = record {
  version = 1;
  hosts = record { dev = 7; latency = 0; most = 1; retries = 0; period = 0; offset = 0; lag = 0; offers = true } ∷ [];
  targets = record { dev = 0; latency = 0; retries = 0; disc = policies.Never; pick = picks.First; seek = 0; period = 0; offset = 0; begins = false } ∷ [];
  units = record { target = 0; unit = 0; blocks = 1; size = 16; depth = 1 } ∷ [];
  fills = [];
  tapes = [];
  loads = [];
  commands = record { host = 7; target = 0; unit = 0; at = 0; tag = tags.Untagged; cdb = (4 ∷ 0 ∷ 0 ∷ 0 ∷ 0 ∷ 0 ∷ []); payload = payloads.Nothing } ∷ [];
  aborts = [];
  resets = record { dev = 7; at = 16745 } ∷ [];
  faults = [];
}

abbrev pub sense_cut_run_rows : List Row
sense_cut_run_rows = drive 1200 7 0x00280 ∷ drive 3600 7 0x00680 ∷ drive 4800 7 0x10781 ∷ drive 4890 7 0x10581 ∷ drive 5290 0 0x00200 ∷ drive 5380 7 0x10000 ∷ drive 5380 0 0x02a00 ∷ drive 5780 0 0x06a00 ∷ drive 5780 7 0x001c0 ∷ drive 5870 7 0x081c0 ∷ drive 5870 0 0x02a00 ∷ drive 5870 7 0x00000 ∷ drive 5870 0 0x00a00 ∷ drive 6270 0 0x04a00 ∷ drive 6270 7 0x00004 ∷ drive 6325 7 0x08004 ∷ drive 6325 0 0x00a00 ∷ drive 6325 7 0x00000 ∷ drive 6325 0 0x04a00 ∷ drive 6325 7 0x00100 ∷ drive 6380 7 0x08100 ∷ drive 6380 0 0x00a00 ∷ drive 6380 7 0x00000 ∷ drive 6380 0 0x04a00 ∷ drive 6380 7 0x00100 ∷ drive 6435 7 0x08100 ∷ drive 6435 0 0x00a00 ∷ drive 6435 7 0x00000 ∷ drive 6435 0 0x04a00 ∷ drive 6435 7 0x00100 ∷ drive 6490 7 0x08100 ∷ drive 6490 0 0x00a00 ∷ drive 6490 7 0x00000 ∷ drive 6490 0 0x04a00 ∷ drive 6490 7 0x00100 ∷ drive 6545 7 0x08100 ∷ drive 6545 0 0x00a00 ∷ drive 6545 7 0x00000 ∷ drive 6545 0 0x04a00 ∷ drive 6545 7 0x00100 ∷ drive 6600 7 0x08100 ∷ drive 6600 0 0x00a00 ∷ drive 6600 7 0x00000 ∷ drive 6600 0 0x01a00 ∷ drive 7400 0 0x01a02 ∷ drive 7455 0 0x05a02 ∷ drive 7455 7 0x08000 ∷ drive 7455 0 0x01a00 ∷ drive 7455 7 0x00000 ∷ drive 7455 0 0x03b00 ∷ drive 7855 0 0x07b00 ∷ drive 7855 7 0x08000 ∷ drive 7855 0 0x03a00 ∷ drive 7855 7 0x00000 ∷ drive 7855 0 0x00000 ∷ drive 9055 7 0x00280 ∷ drive 11455 7 0x00680 ∷ drive 12655 7 0x10781 ∷ drive 12745 7 0x10581 ∷ drive 13145 0 0x00200 ∷ drive 13235 7 0x10000 ∷ drive 13235 0 0x02a00 ∷ drive 13635 0 0x06a00 ∷ drive 13635 7 0x00080 ∷ drive 13725 7 0x08080 ∷ drive 13725 0 0x02a00 ∷ drive 13725 7 0x00000 ∷ drive 13725 0 0x00a00 ∷ drive 14125 0 0x04a00 ∷ drive 14125 7 0x00103 ∷ drive 14180 7 0x08103 ∷ drive 14180 0 0x00a00 ∷ drive 14180 7 0x00000 ∷ drive 14180 0 0x04a00 ∷ drive 14180 7 0x00100 ∷ drive 14235 7 0x08100 ∷ drive 14235 0 0x00a00 ∷ drive 14235 7 0x00000 ∷ drive 14235 0 0x04a00 ∷ drive 14235 7 0x00100 ∷ drive 14290 7 0x08100 ∷ drive 14290 0 0x00a00 ∷ drive 14290 7 0x00000 ∷ drive 14290 0 0x04a00 ∷ drive 14290 7 0x00100 ∷ drive 14345 7 0x08100 ∷ drive 14345 0 0x00a00 ∷ drive 14345 7 0x00000 ∷ drive 14345 0 0x04a00 ∷ drive 14345 7 0x00112 ∷ drive 14400 7 0x08112 ∷ drive 14400 0 0x00a00 ∷ drive 14400 7 0x00000 ∷ drive 14400 0 0x04a00 ∷ drive 14400 7 0x00100 ∷ drive 14455 7 0x08100 ∷ drive 14455 0 0x00a00 ∷ drive 14455 7 0x00000 ∷ drive 14455 0 0x01200 ∷ drive 15255 0 0x01270 ∷ drive 15310 0 0x05270 ∷ drive 15310 7 0x08000 ∷ drive 15310 0 0x01300 ∷ drive 15310 7 0x00000 ∷ drive 15365 0 0x05300 ∷ drive 15365 7 0x08000 ∷ drive 15365 0 0x01305 ∷ drive 15365 7 0x00000 ∷ drive 15420 0 0x05305 ∷ drive 15420 7 0x08000 ∷ drive 15420 0 0x01300 ∷ drive 15420 7 0x00000 ∷ drive 15475 0 0x05300 ∷ drive 15475 7 0x08000 ∷ drive 15475 0 0x01300 ∷ drive 15475 7 0x00000 ∷ drive 15530 0 0x05300 ∷ drive 15530 7 0x08000 ∷ drive 15530 0 0x01300 ∷ drive 15530 7 0x00000 ∷ drive 15585 0 0x05300 ∷ drive 15585 7 0x08000 ∷ drive 15585 0 0x01300 ∷ drive 15585 7 0x00000 ∷ drive 15640 0 0x05300 ∷ drive 15640 7 0x08000 ∷ drive 15640 0 0x0130a ∷ drive 15640 7 0x00000 ∷ drive 15695 0 0x0530a ∷ drive 15695 7 0x08000 ∷ drive 15695 0 0x01300 ∷ drive 15695 7 0x00000 ∷ drive 15750 0 0x05300 ∷ drive 15750 7 0x08000 ∷ drive 15750 0 0x01300 ∷ drive 15750 7 0x00000 ∷ drive 15805 0 0x05300 ∷ drive 15805 7 0x08000 ∷ drive 15805 0 0x01300 ∷ drive 15805 7 0x00000 ∷ drive 15860 0 0x05300 ∷ drive 15860 7 0x08000 ∷ drive 15860 0 0x01300 ∷ drive 15860 7 0x00000 ∷ drive 15915 0 0x05300 ∷ drive 15915 7 0x08000 ∷ drive 15915 0 0x01220 ∷ drive 15915 7 0x00000 ∷ drive 15970 0 0x05220 ∷ drive 15970 7 0x08000 ∷ drive 15970 0 0x01300 ∷ drive 15970 7 0x00000 ∷ drive 16025 0 0x05300 ∷ drive 16025 7 0x08000 ∷ drive 16025 0 0x01300 ∷ drive 16025 7 0x00000 ∷ drive 16080 0 0x05300 ∷ drive 16080 7 0x08000 ∷ drive 16080 0 0x01300 ∷ drive 16080 7 0x00000 ∷ drive 16135 0 0x05300 ∷ drive 16135 7 0x08000 ∷ drive 16135 0 0x01300 ∷ drive 16135 7 0x00000 ∷ drive 16190 0 0x05300 ∷ drive 16190 7 0x08000 ∷ drive 16190 0 0x01300 ∷ drive 16190 7 0x00000 ∷ drive 16245 0 0x05300 ∷ drive 16245 7 0x08000 ∷ drive 16245 0 0x01200 ∷ drive 16245 7 0x00000 ∷ drive 16245 0 0x01b00 ∷ drive 16645 0 0x05b00 ∷ drive 16645 7 0x08000 ∷ drive 16645 0 0x01a00 ∷ drive 16645 7 0x00000 ∷ drive 16645 0 0x03b00 ∷ drive 16745 7 0x20000 ∷ drive 16745 0 0x00000 ∷ drive 41745 7 0x00000 ∷ []

abbrev sense_cut_run_events : List Event
sense_cut_run_events = events.Accept (command 1) ∷ events.Run (command 1) ∷ events.End (command 1) 2 ∷ events.Accept (sense 1) ∷ events.Run (sense 1) ∷ events.Reset 7 ∷ []

sense_cut_run_told : shown sense_cut_run (story sense_cut_run (reverse sense_cut_run_rows)) (reverse sense_cut_run_events) ≡ record { history = reverse sense_cut_run_events; ends = Some (ended_check None) ∷ []; carried = true }
unfolding need_of sent_of ones union_below line_of form_out form_in
sense_cut_run_told = refl

-- ---- senses_run

abbrev senses_run : ScenarioValue
senses_run = record {
  version = 1;
  hosts = record { dev = 7; latency = 0; most = 8; retries = 2; period = 0; offset = 0; lag = 0; offers = true } ∷ [];
  targets = record { dev = 0; latency = 0; retries = 2; disc = policies.Never; pick = picks.First; seek = 0; period = 0; offset = 0; begins = false } ∷ [];
  units = record { target = 0; unit = 0; blocks = 255; size = 16; depth = 1 } ∷ [];
  fills = [];
  tapes = [];
  loads = [];
  commands = record { host = 7; target = 0; unit = 0; at = 0; tag = tags.Untagged; cdb = (8 ∷ 0 ∷ 1 ∷ 255 ∷ 1 ∷ 0 ∷ []); payload = payloads.Nothing } ∷ record { host = 7; target = 0; unit = 0; at = 0; tag = tags.Untagged; cdb = (3 ∷ 0 ∷ 0 ∷ 0 ∷ 18 ∷ 0 ∷ []); payload = payloads.Nothing } ∷ record { host = 7; target = 0; unit = 0; at = 0; tag = tags.Untagged; cdb = (10 ∷ 0 ∷ 0 ∷ 1 ∷ 2 ∷ 0 ∷ []); payload = payloads.From 160 } ∷ record { host = 7; target = 0; unit = 0; at = 0; tag = tags.Untagged; cdb = (40 ∷ 0 ∷ 0 ∷ 0 ∷ 0 ∷ 0 ∷ 0 ∷ 0 ∷ 3 ∷ 0 ∷ []); payload = payloads.Nothing } ∷ record { host = 7; target = 0; unit = 0; at = 0; tag = tags.Untagged; cdb = (11 ∷ 0 ∷ 0 ∷ 0 ∷ 0 ∷ 0 ∷ []); payload = payloads.Nothing } ∷ record { host = 7; target = 0; unit = 0; at = 0; tag = tags.Untagged; cdb = (8 ∷ 0 ∷ 0 ∷ 0 ∷ 0 ∷ 0 ∷ []); payload = payloads.Nothing } ∷ [];
  aborts = [];
  resets = [];
  faults = [];
}

abbrev pub senses_run_rows : List Row
senses_run_rows = drive 1200 7 0x00280 ∷ drive 3600 7 0x00680 ∷ drive 4800 7 0x10781 ∷ drive 4890 7 0x10581 ∷ drive 5290 0 0x00200 ∷ drive 5380 7 0x10000 ∷ drive 5380 0 0x02a00 ∷ drive 5780 0 0x06a00 ∷ drive 5780 7 0x001c0 ∷ drive 5870 7 0x081c0 ∷ drive 5870 0 0x02a00 ∷ drive 5870 7 0x00000 ∷ drive 5870 0 0x00a00 ∷ drive 6270 0 0x04a00 ∷ drive 6270 7 0x00008 ∷ drive 6325 7 0x08008 ∷ drive 6325 0 0x00a00 ∷ drive 6325 7 0x00000 ∷ drive 6325 0 0x04a00 ∷ drive 6325 7 0x00100 ∷ drive 6380 7 0x08100 ∷ drive 6380 0 0x00a00 ∷ drive 6380 7 0x00000 ∷ drive 6380 0 0x04a00 ∷ drive 6380 7 0x00001 ∷ drive 6435 7 0x08001 ∷ drive 6435 0 0x00a00 ∷ drive 6435 7 0x00000 ∷ drive 6435 0 0x04a00 ∷ drive 6435 7 0x001ff ∷ drive 6490 7 0x081ff ∷ drive 6490 0 0x00a00 ∷ drive 6490 7 0x00000 ∷ drive 6490 0 0x04a00 ∷ drive 6490 7 0x00001 ∷ drive 6545 7 0x08001 ∷ drive 6545 0 0x00a00 ∷ drive 6545 7 0x00000 ∷ drive 6545 0 0x04a00 ∷ drive 6545 7 0x00100 ∷ drive 6600 7 0x08100 ∷ drive 6600 0 0x00a00 ∷ drive 6600 7 0x00000 ∷ drive 6600 0 0x01a00 ∷ drive 7400 0 0x01a02 ∷ drive 7455 0 0x05a02 ∷ drive 7455 7 0x08000 ∷ drive 7455 0 0x01a00 ∷ drive 7455 7 0x00000 ∷ drive 7455 0 0x03b00 ∷ drive 7855 0 0x07b00 ∷ drive 7855 7 0x08000 ∷ drive 7855 0 0x03a00 ∷ drive 7855 7 0x00000 ∷ drive 7855 0 0x00000 ∷ drive 9055 7 0x00280 ∷ drive 11455 7 0x00680 ∷ drive 12655 7 0x10781 ∷ drive 12745 7 0x10581 ∷ drive 13145 0 0x00200 ∷ drive 13235 7 0x10000 ∷ drive 13235 0 0x02a00 ∷ drive 13635 0 0x06a00 ∷ drive 13635 7 0x00080 ∷ drive 13725 7 0x08080 ∷ drive 13725 0 0x02a00 ∷ drive 13725 7 0x00000 ∷ drive 13725 0 0x00a00 ∷ drive 14125 0 0x04a00 ∷ drive 14125 7 0x00103 ∷ drive 14180 7 0x08103 ∷ drive 14180 0 0x00a00 ∷ drive 14180 7 0x00000 ∷ drive 14180 0 0x04a00 ∷ drive 14180 7 0x00100 ∷ drive 14235 7 0x08100 ∷ drive 14235 0 0x00a00 ∷ drive 14235 7 0x00000 ∷ drive 14235 0 0x04a00 ∷ drive 14235 7 0x00100 ∷ drive 14290 7 0x08100 ∷ drive 14290 0 0x00a00 ∷ drive 14290 7 0x00000 ∷ drive 14290 0 0x04a00 ∷ drive 14290 7 0x00100 ∷ drive 14345 7 0x08100 ∷ drive 14345 0 0x00a00 ∷ drive 14345 7 0x00000 ∷ drive 14345 0 0x04a00 ∷ drive 14345 7 0x00112 ∷ drive 14400 7 0x08112 ∷ drive 14400 0 0x00a00 ∷ drive 14400 7 0x00000 ∷ drive 14400 0 0x04a00 ∷ drive 14400 7 0x00100 ∷ drive 14455 7 0x08100 ∷ drive 14455 0 0x00a00 ∷ drive 14455 7 0x00000 ∷ drive 14455 0 0x01200 ∷ drive 15255 0 0x01270 ∷ drive 15310 0 0x05270 ∷ drive 15310 7 0x08000 ∷ drive 15310 0 0x01300 ∷ drive 15310 7 0x00000 ∷ drive 15365 0 0x05300 ∷ drive 15365 7 0x08000 ∷ drive 15365 0 0x01305 ∷ drive 15365 7 0x00000 ∷ drive 15420 0 0x05305 ∷ drive 15420 7 0x08000 ∷ drive 15420 0 0x01300 ∷ drive 15420 7 0x00000 ∷ drive 15475 0 0x05300 ∷ drive 15475 7 0x08000 ∷ drive 15475 0 0x01300 ∷ drive 15475 7 0x00000 ∷ drive 15530 0 0x05300 ∷ drive 15530 7 0x08000 ∷ drive 15530 0 0x01300 ∷ drive 15530 7 0x00000 ∷ drive 15585 0 0x05300 ∷ drive 15585 7 0x08000 ∷ drive 15585 0 0x01300 ∷ drive 15585 7 0x00000 ∷ drive 15640 0 0x05300 ∷ drive 15640 7 0x08000 ∷ drive 15640 0 0x0130a ∷ drive 15640 7 0x00000 ∷ drive 15695 0 0x0530a ∷ drive 15695 7 0x08000 ∷ drive 15695 0 0x01300 ∷ drive 15695 7 0x00000 ∷ drive 15750 0 0x05300 ∷ drive 15750 7 0x08000 ∷ drive 15750 0 0x01300 ∷ drive 15750 7 0x00000 ∷ drive 15805 0 0x05300 ∷ drive 15805 7 0x08000 ∷ drive 15805 0 0x01300 ∷ drive 15805 7 0x00000 ∷ drive 15860 0 0x05300 ∷ drive 15860 7 0x08000 ∷ drive 15860 0 0x01300 ∷ drive 15860 7 0x00000 ∷ drive 15915 0 0x05300 ∷ drive 15915 7 0x08000 ∷ drive 15915 0 0x01321 ∷ drive 15915 7 0x00000 ∷ drive 15970 0 0x05321 ∷ drive 15970 7 0x08000 ∷ drive 15970 0 0x01300 ∷ drive 15970 7 0x00000 ∷ drive 16025 0 0x05300 ∷ drive 16025 7 0x08000 ∷ drive 16025 0 0x01300 ∷ drive 16025 7 0x00000 ∷ drive 16080 0 0x05300 ∷ drive 16080 7 0x08000 ∷ drive 16080 0 0x01300 ∷ drive 16080 7 0x00000 ∷ drive 16135 0 0x05300 ∷ drive 16135 7 0x08000 ∷ drive 16135 0 0x01300 ∷ drive 16135 7 0x00000 ∷ drive 16190 0 0x05300 ∷ drive 16190 7 0x08000 ∷ drive 16190 0 0x01300 ∷ drive 16190 7 0x00000 ∷ drive 16245 0 0x05300 ∷ drive 16245 7 0x08000 ∷ drive 16245 0 0x01200 ∷ drive 16245 7 0x00000 ∷ drive 16245 0 0x01b00 ∷ drive 16645 0 0x05b00 ∷ drive 16645 7 0x08000 ∷ drive 16645 0 0x01a00 ∷ drive 16645 7 0x00000 ∷ drive 16645 0 0x03b00 ∷ drive 17045 0 0x07b00 ∷ drive 17045 7 0x08000 ∷ drive 17045 0 0x03a00 ∷ drive 17045 7 0x00000 ∷ drive 17045 0 0x00000 ∷ drive 18245 7 0x00280 ∷ drive 20645 7 0x00680 ∷ drive 21845 7 0x10781 ∷ drive 21935 7 0x10581 ∷ drive 22335 0 0x00200 ∷ drive 22425 7 0x10000 ∷ drive 22425 0 0x02a00 ∷ drive 22825 0 0x06a00 ∷ drive 22825 7 0x001c0 ∷ drive 22915 7 0x081c0 ∷ drive 22915 0 0x02a00 ∷ drive 22915 7 0x00000 ∷ drive 22915 0 0x00a00 ∷ drive 23315 0 0x04a00 ∷ drive 23315 7 0x00103 ∷ drive 23370 7 0x08103 ∷ drive 23370 0 0x00a00 ∷ drive 23370 7 0x00000 ∷ drive 23370 0 0x04a00 ∷ drive 23370 7 0x00100 ∷ drive 23425 7 0x08100 ∷ drive 23425 0 0x00a00 ∷ drive 23425 7 0x00000 ∷ drive 23425 0 0x04a00 ∷ drive 23425 7 0x00100 ∷ drive 23480 7 0x08100 ∷ drive 23480 0 0x00a00 ∷ drive 23480 7 0x00000 ∷ drive 23480 0 0x04a00 ∷ drive 23480 7 0x00100 ∷ drive 23535 7 0x08100 ∷ drive 23535 0 0x00a00 ∷ drive 23535 7 0x00000 ∷ drive 23535 0 0x04a00 ∷ drive 23535 7 0x00112 ∷ drive 23590 7 0x08112 ∷ drive 23590 0 0x00a00 ∷ drive 23590 7 0x00000 ∷ drive 23590 0 0x04a00 ∷ drive 23590 7 0x00100 ∷ drive 23645 7 0x08100 ∷ drive 23645 0 0x00a00 ∷ drive 23645 7 0x00000 ∷ drive 23645 0 0x01200 ∷ drive 24445 0 0x01270 ∷ drive 24500 0 0x05270 ∷ drive 24500 7 0x08000 ∷ drive 24500 0 0x01300 ∷ drive 24500 7 0x00000 ∷ drive 24555 0 0x05300 ∷ drive 24555 7 0x08000 ∷ drive 24555 0 0x01300 ∷ drive 24555 7 0x00000 ∷ drive 24610 0 0x05300 ∷ drive 24610 7 0x08000 ∷ drive 24610 0 0x01300 ∷ drive 24610 7 0x00000 ∷ drive 24665 0 0x05300 ∷ drive 24665 7 0x08000 ∷ drive 24665 0 0x01300 ∷ drive 24665 7 0x00000 ∷ drive 24720 0 0x05300 ∷ drive 24720 7 0x08000 ∷ drive 24720 0 0x01300 ∷ drive 24720 7 0x00000 ∷ drive 24775 0 0x05300 ∷ drive 24775 7 0x08000 ∷ drive 24775 0 0x01300 ∷ drive 24775 7 0x00000 ∷ drive 24830 0 0x05300 ∷ drive 24830 7 0x08000 ∷ drive 24830 0 0x0130a ∷ drive 24830 7 0x00000 ∷ drive 24885 0 0x0530a ∷ drive 24885 7 0x08000 ∷ drive 24885 0 0x01300 ∷ drive 24885 7 0x00000 ∷ drive 24940 0 0x05300 ∷ drive 24940 7 0x08000 ∷ drive 24940 0 0x01300 ∷ drive 24940 7 0x00000 ∷ drive 24995 0 0x05300 ∷ drive 24995 7 0x08000 ∷ drive 24995 0 0x01300 ∷ drive 24995 7 0x00000 ∷ drive 25050 0 0x05300 ∷ drive 25050 7 0x08000 ∷ drive 25050 0 0x01300 ∷ drive 25050 7 0x00000 ∷ drive 25105 0 0x05300 ∷ drive 25105 7 0x08000 ∷ drive 25105 0 0x01300 ∷ drive 25105 7 0x00000 ∷ drive 25160 0 0x05300 ∷ drive 25160 7 0x08000 ∷ drive 25160 0 0x01300 ∷ drive 25160 7 0x00000 ∷ drive 25215 0 0x05300 ∷ drive 25215 7 0x08000 ∷ drive 25215 0 0x01300 ∷ drive 25215 7 0x00000 ∷ drive 25270 0 0x05300 ∷ drive 25270 7 0x08000 ∷ drive 25270 0 0x01300 ∷ drive 25270 7 0x00000 ∷ drive 25325 0 0x05300 ∷ drive 25325 7 0x08000 ∷ drive 25325 0 0x01300 ∷ drive 25325 7 0x00000 ∷ drive 25380 0 0x05300 ∷ drive 25380 7 0x08000 ∷ drive 25380 0 0x01300 ∷ drive 25380 7 0x00000 ∷ drive 25435 0 0x05300 ∷ drive 25435 7 0x08000 ∷ drive 25435 0 0x01200 ∷ drive 25435 7 0x00000 ∷ drive 25435 0 0x01b00 ∷ drive 25835 0 0x05b00 ∷ drive 25835 7 0x08000 ∷ drive 25835 0 0x01a00 ∷ drive 25835 7 0x00000 ∷ drive 25835 0 0x03b00 ∷ drive 26235 0 0x07b00 ∷ drive 26235 7 0x08000 ∷ drive 26235 0 0x03a00 ∷ drive 26235 7 0x00000 ∷ drive 26235 0 0x00000 ∷ drive 27435 7 0x00280 ∷ drive 29835 7 0x00680 ∷ drive 31035 7 0x10781 ∷ drive 31125 7 0x10581 ∷ drive 31525 0 0x00200 ∷ drive 31615 7 0x10000 ∷ drive 31615 0 0x02a00 ∷ drive 32015 0 0x06a00 ∷ drive 32015 7 0x001c0 ∷ drive 32105 7 0x081c0 ∷ drive 32105 0 0x02a00 ∷ drive 32105 7 0x00000 ∷ drive 32105 0 0x00a00 ∷ drive 32505 0 0x04a00 ∷ drive 32505 7 0x0010a ∷ drive 32560 7 0x0810a ∷ drive 32560 0 0x00a00 ∷ drive 32560 7 0x00000 ∷ drive 32560 0 0x04a00 ∷ drive 32560 7 0x00100 ∷ drive 32615 7 0x08100 ∷ drive 32615 0 0x00a00 ∷ drive 32615 7 0x00000 ∷ drive 32615 0 0x04a00 ∷ drive 32615 7 0x00100 ∷ drive 32670 7 0x08100 ∷ drive 32670 0 0x00a00 ∷ drive 32670 7 0x00000 ∷ drive 32670 0 0x04a00 ∷ drive 32670 7 0x00001 ∷ drive 32725 7 0x08001 ∷ drive 32725 0 0x00a00 ∷ drive 32725 7 0x00000 ∷ drive 32725 0 0x04a00 ∷ drive 32725 7 0x00002 ∷ drive 32780 7 0x08002 ∷ drive 32780 0 0x00a00 ∷ drive 32780 7 0x00000 ∷ drive 32780 0 0x04a00 ∷ drive 32780 7 0x00100 ∷ drive 32835 7 0x08100 ∷ drive 32835 0 0x00a00 ∷ drive 32835 7 0x00000 ∷ drive 32835 0 0x00200 ∷ drive 33235 0 0x04200 ∷ drive 33235 7 0x001a0 ∷ drive 33290 7 0x081a0 ∷ drive 33290 0 0x00200 ∷ drive 33290 7 0x00000 ∷ drive 33290 0 0x04200 ∷ drive 33290 7 0x000a1 ∷ drive 33345 7 0x080a1 ∷ drive 33345 0 0x00200 ∷ drive 33345 7 0x00000 ∷ drive 33345 0 0x04200 ∷ drive 33345 7 0x000a2 ∷ drive 33400 7 0x080a2 ∷ drive 33400 0 0x00200 ∷ drive 33400 7 0x00000 ∷ drive 33400 0 0x04200 ∷ drive 33400 7 0x001a3 ∷ drive 33455 7 0x081a3 ∷ drive 33455 0 0x00200 ∷ drive 33455 7 0x00000 ∷ drive 33455 0 0x04200 ∷ drive 33455 7 0x000a4 ∷ drive 33510 7 0x080a4 ∷ drive 33510 0 0x00200 ∷ drive 33510 7 0x00000 ∷ drive 33510 0 0x04200 ∷ drive 33510 7 0x001a5 ∷ drive 33565 7 0x081a5 ∷ drive 33565 0 0x00200 ∷ drive 33565 7 0x00000 ∷ drive 33565 0 0x04200 ∷ drive 33565 7 0x001a6 ∷ drive 33620 7 0x081a6 ∷ drive 33620 0 0x00200 ∷ drive 33620 7 0x00000 ∷ drive 33620 0 0x04200 ∷ drive 33620 7 0x000a7 ∷ drive 33675 7 0x080a7 ∷ drive 33675 0 0x00200 ∷ drive 33675 7 0x00000 ∷ drive 33675 0 0x04200 ∷ drive 33675 7 0x000a8 ∷ drive 33730 7 0x080a8 ∷ drive 33730 0 0x00200 ∷ drive 33730 7 0x00000 ∷ drive 33730 0 0x04200 ∷ drive 33730 7 0x001a9 ∷ drive 33785 7 0x081a9 ∷ drive 33785 0 0x00200 ∷ drive 33785 7 0x00000 ∷ drive 33785 0 0x04200 ∷ drive 33785 7 0x001aa ∷ drive 33840 7 0x081aa ∷ drive 33840 0 0x00200 ∷ drive 33840 7 0x00000 ∷ drive 33840 0 0x04200 ∷ drive 33840 7 0x000ab ∷ drive 33895 7 0x080ab ∷ drive 33895 0 0x00200 ∷ drive 33895 7 0x00000 ∷ drive 33895 0 0x04200 ∷ drive 33895 7 0x001ac ∷ drive 33950 7 0x081ac ∷ drive 33950 0 0x00200 ∷ drive 33950 7 0x00000 ∷ drive 33950 0 0x04200 ∷ drive 33950 7 0x000ad ∷ drive 34005 7 0x080ad ∷ drive 34005 0 0x00200 ∷ drive 34005 7 0x00000 ∷ drive 34005 0 0x04200 ∷ drive 34005 7 0x000ae ∷ drive 34060 7 0x080ae ∷ drive 34060 0 0x00200 ∷ drive 34060 7 0x00000 ∷ drive 34060 0 0x04200 ∷ drive 34060 7 0x001af ∷ drive 34115 7 0x081af ∷ drive 34115 0 0x00200 ∷ drive 34115 7 0x00000 ∷ drive 34115 0 0x04200 ∷ drive 34115 7 0x000b0 ∷ drive 34170 7 0x080b0 ∷ drive 34170 0 0x00200 ∷ drive 34170 7 0x00000 ∷ drive 34170 0 0x04200 ∷ drive 34170 7 0x001b1 ∷ drive 34225 7 0x081b1 ∷ drive 34225 0 0x00200 ∷ drive 34225 7 0x00000 ∷ drive 34225 0 0x04200 ∷ drive 34225 7 0x001b2 ∷ drive 34280 7 0x081b2 ∷ drive 34280 0 0x00200 ∷ drive 34280 7 0x00000 ∷ drive 34280 0 0x04200 ∷ drive 34280 7 0x000b3 ∷ drive 34335 7 0x080b3 ∷ drive 34335 0 0x00200 ∷ drive 34335 7 0x00000 ∷ drive 34335 0 0x04200 ∷ drive 34335 7 0x001b4 ∷ drive 34390 7 0x081b4 ∷ drive 34390 0 0x00200 ∷ drive 34390 7 0x00000 ∷ drive 34390 0 0x04200 ∷ drive 34390 7 0x000b5 ∷ drive 34445 7 0x080b5 ∷ drive 34445 0 0x00200 ∷ drive 34445 7 0x00000 ∷ drive 34445 0 0x04200 ∷ drive 34445 7 0x000b6 ∷ drive 34500 7 0x080b6 ∷ drive 34500 0 0x00200 ∷ drive 34500 7 0x00000 ∷ drive 34500 0 0x04200 ∷ drive 34500 7 0x001b7 ∷ drive 34555 7 0x081b7 ∷ drive 34555 0 0x00200 ∷ drive 34555 7 0x00000 ∷ drive 34555 0 0x04200 ∷ drive 34555 7 0x001b8 ∷ drive 34610 7 0x081b8 ∷ drive 34610 0 0x00200 ∷ drive 34610 7 0x00000 ∷ drive 34610 0 0x04200 ∷ drive 34610 7 0x000b9 ∷ drive 34665 7 0x080b9 ∷ drive 34665 0 0x00200 ∷ drive 34665 7 0x00000 ∷ drive 34665 0 0x04200 ∷ drive 34665 7 0x000ba ∷ drive 34720 7 0x080ba ∷ drive 34720 0 0x00200 ∷ drive 34720 7 0x00000 ∷ drive 34720 0 0x04200 ∷ drive 34720 7 0x001bb ∷ drive 34775 7 0x081bb ∷ drive 34775 0 0x00200 ∷ drive 34775 7 0x00000 ∷ drive 34775 0 0x04200 ∷ drive 34775 7 0x000bc ∷ drive 34830 7 0x080bc ∷ drive 34830 0 0x00200 ∷ drive 34830 7 0x00000 ∷ drive 34830 0 0x04200 ∷ drive 34830 7 0x001bd ∷ drive 34885 7 0x081bd ∷ drive 34885 0 0x00200 ∷ drive 34885 7 0x00000 ∷ drive 34885 0 0x04200 ∷ drive 34885 7 0x001be ∷ drive 34940 7 0x081be ∷ drive 34940 0 0x00200 ∷ drive 34940 7 0x00000 ∷ drive 34940 0 0x04200 ∷ drive 34940 7 0x000bf ∷ drive 34995 7 0x080bf ∷ drive 34995 0 0x00200 ∷ drive 34995 7 0x00000 ∷ drive 34995 0 0x01a00 ∷ drive 35795 0 0x01b00 ∷ drive 35850 0 0x05b00 ∷ drive 35850 7 0x08000 ∷ drive 35850 0 0x01a00 ∷ drive 35850 7 0x00000 ∷ drive 35850 0 0x03b00 ∷ drive 36250 0 0x07b00 ∷ drive 36250 7 0x08000 ∷ drive 36250 0 0x03a00 ∷ drive 36250 7 0x00000 ∷ drive 36250 0 0x00000 ∷ drive 37450 7 0x00280 ∷ drive 39850 7 0x00680 ∷ drive 41050 7 0x10781 ∷ drive 41140 7 0x10581 ∷ drive 41540 0 0x00200 ∷ drive 41630 7 0x10000 ∷ drive 41630 0 0x02a00 ∷ drive 42030 0 0x06a00 ∷ drive 42030 7 0x001c0 ∷ drive 42120 7 0x081c0 ∷ drive 42120 0 0x02a00 ∷ drive 42120 7 0x00000 ∷ drive 42120 0 0x00a00 ∷ drive 42520 0 0x04a00 ∷ drive 42520 7 0x00128 ∷ drive 42575 7 0x08128 ∷ drive 42575 0 0x00a00 ∷ drive 42575 7 0x00000 ∷ drive 42575 0 0x04a00 ∷ drive 42575 7 0x00100 ∷ drive 42630 7 0x08100 ∷ drive 42630 0 0x00a00 ∷ drive 42630 7 0x00000 ∷ drive 42630 0 0x04a00 ∷ drive 42630 7 0x00100 ∷ drive 42685 7 0x08100 ∷ drive 42685 0 0x00a00 ∷ drive 42685 7 0x00000 ∷ drive 42685 0 0x04a00 ∷ drive 42685 7 0x00100 ∷ drive 42740 7 0x08100 ∷ drive 42740 0 0x00a00 ∷ drive 42740 7 0x00000 ∷ drive 42740 0 0x04a00 ∷ drive 42740 7 0x00100 ∷ drive 42795 7 0x08100 ∷ drive 42795 0 0x00a00 ∷ drive 42795 7 0x00000 ∷ drive 42795 0 0x04a00 ∷ drive 42795 7 0x00100 ∷ drive 42850 7 0x08100 ∷ drive 42850 0 0x00a00 ∷ drive 42850 7 0x00000 ∷ drive 42850 0 0x04a00 ∷ drive 42850 7 0x00100 ∷ drive 42905 7 0x08100 ∷ drive 42905 0 0x00a00 ∷ drive 42905 7 0x00000 ∷ drive 42905 0 0x04a00 ∷ drive 42905 7 0x00100 ∷ drive 42960 7 0x08100 ∷ drive 42960 0 0x00a00 ∷ drive 42960 7 0x00000 ∷ drive 42960 0 0x04a00 ∷ drive 42960 7 0x00103 ∷ drive 43015 7 0x08103 ∷ drive 43015 0 0x00a00 ∷ drive 43015 7 0x00000 ∷ drive 43015 0 0x04a00 ∷ drive 43015 7 0x00100 ∷ drive 43070 7 0x08100 ∷ drive 43070 0 0x00a00 ∷ drive 43070 7 0x00000 ∷ drive 43070 0 0x01200 ∷ drive 43870 0 0x01300 ∷ drive 43925 0 0x05300 ∷ drive 43925 7 0x08000 ∷ drive 43925 0 0x01300 ∷ drive 43925 7 0x00000 ∷ drive 43980 0 0x05300 ∷ drive 43980 7 0x08000 ∷ drive 43980 0 0x01300 ∷ drive 43980 7 0x00000 ∷ drive 44035 0 0x05300 ∷ drive 44035 7 0x08000 ∷ drive 44035 0 0x01300 ∷ drive 44035 7 0x00000 ∷ drive 44090 0 0x05300 ∷ drive 44090 7 0x08000 ∷ drive 44090 0 0x01300 ∷ drive 44090 7 0x00000 ∷ drive 44145 0 0x05300 ∷ drive 44145 7 0x08000 ∷ drive 44145 0 0x01300 ∷ drive 44145 7 0x00000 ∷ drive 44200 0 0x05300 ∷ drive 44200 7 0x08000 ∷ drive 44200 0 0x01300 ∷ drive 44200 7 0x00000 ∷ drive 44255 0 0x05300 ∷ drive 44255 7 0x08000 ∷ drive 44255 0 0x01300 ∷ drive 44255 7 0x00000 ∷ drive 44310 0 0x05300 ∷ drive 44310 7 0x08000 ∷ drive 44310 0 0x01300 ∷ drive 44310 7 0x00000 ∷ drive 44365 0 0x05300 ∷ drive 44365 7 0x08000 ∷ drive 44365 0 0x01300 ∷ drive 44365 7 0x00000 ∷ drive 44420 0 0x05300 ∷ drive 44420 7 0x08000 ∷ drive 44420 0 0x01300 ∷ drive 44420 7 0x00000 ∷ drive 44475 0 0x05300 ∷ drive 44475 7 0x08000 ∷ drive 44475 0 0x01300 ∷ drive 44475 7 0x00000 ∷ drive 44530 0 0x05300 ∷ drive 44530 7 0x08000 ∷ drive 44530 0 0x01300 ∷ drive 44530 7 0x00000 ∷ drive 44585 0 0x05300 ∷ drive 44585 7 0x08000 ∷ drive 44585 0 0x01300 ∷ drive 44585 7 0x00000 ∷ drive 44640 0 0x05300 ∷ drive 44640 7 0x08000 ∷ drive 44640 0 0x01300 ∷ drive 44640 7 0x00000 ∷ drive 44695 0 0x05300 ∷ drive 44695 7 0x08000 ∷ drive 44695 0 0x01300 ∷ drive 44695 7 0x00000 ∷ drive 44750 0 0x05300 ∷ drive 44750 7 0x08000 ∷ drive 44750 0 0x013a0 ∷ drive 44750 7 0x00000 ∷ drive 44805 0 0x053a0 ∷ drive 44805 7 0x08000 ∷ drive 44805 0 0x012a1 ∷ drive 44805 7 0x00000 ∷ drive 44860 0 0x052a1 ∷ drive 44860 7 0x08000 ∷ drive 44860 0 0x012a2 ∷ drive 44860 7 0x00000 ∷ drive 44915 0 0x052a2 ∷ drive 44915 7 0x08000 ∷ drive 44915 0 0x013a3 ∷ drive 44915 7 0x00000 ∷ drive 44970 0 0x053a3 ∷ drive 44970 7 0x08000 ∷ drive 44970 0 0x012a4 ∷ drive 44970 7 0x00000 ∷ drive 45025 0 0x052a4 ∷ drive 45025 7 0x08000 ∷ drive 45025 0 0x013a5 ∷ drive 45025 7 0x00000 ∷ drive 45080 0 0x053a5 ∷ drive 45080 7 0x08000 ∷ drive 45080 0 0x013a6 ∷ drive 45080 7 0x00000 ∷ drive 45135 0 0x053a6 ∷ drive 45135 7 0x08000 ∷ drive 45135 0 0x012a7 ∷ drive 45135 7 0x00000 ∷ drive 45190 0 0x052a7 ∷ drive 45190 7 0x08000 ∷ drive 45190 0 0x012a8 ∷ drive 45190 7 0x00000 ∷ drive 45245 0 0x052a8 ∷ drive 45245 7 0x08000 ∷ drive 45245 0 0x013a9 ∷ drive 45245 7 0x00000 ∷ drive 45300 0 0x053a9 ∷ drive 45300 7 0x08000 ∷ drive 45300 0 0x013aa ∷ drive 45300 7 0x00000 ∷ drive 45355 0 0x053aa ∷ drive 45355 7 0x08000 ∷ drive 45355 0 0x012ab ∷ drive 45355 7 0x00000 ∷ drive 45410 0 0x052ab ∷ drive 45410 7 0x08000 ∷ drive 45410 0 0x013ac ∷ drive 45410 7 0x00000 ∷ drive 45465 0 0x053ac ∷ drive 45465 7 0x08000 ∷ drive 45465 0 0x012ad ∷ drive 45465 7 0x00000 ∷ drive 45520 0 0x052ad ∷ drive 45520 7 0x08000 ∷ drive 45520 0 0x012ae ∷ drive 45520 7 0x00000 ∷ drive 45575 0 0x052ae ∷ drive 45575 7 0x08000 ∷ drive 45575 0 0x013af ∷ drive 45575 7 0x00000 ∷ drive 45630 0 0x053af ∷ drive 45630 7 0x08000 ∷ drive 45630 0 0x012b0 ∷ drive 45630 7 0x00000 ∷ drive 45685 0 0x052b0 ∷ drive 45685 7 0x08000 ∷ drive 45685 0 0x013b1 ∷ drive 45685 7 0x00000 ∷ drive 45740 0 0x053b1 ∷ drive 45740 7 0x08000 ∷ drive 45740 0 0x013b2 ∷ drive 45740 7 0x00000 ∷ drive 45795 0 0x053b2 ∷ drive 45795 7 0x08000 ∷ drive 45795 0 0x012b3 ∷ drive 45795 7 0x00000 ∷ drive 45850 0 0x052b3 ∷ drive 45850 7 0x08000 ∷ drive 45850 0 0x013b4 ∷ drive 45850 7 0x00000 ∷ drive 45905 0 0x053b4 ∷ drive 45905 7 0x08000 ∷ drive 45905 0 0x012b5 ∷ drive 45905 7 0x00000 ∷ drive 45960 0 0x052b5 ∷ drive 45960 7 0x08000 ∷ drive 45960 0 0x012b6 ∷ drive 45960 7 0x00000 ∷ drive 46015 0 0x052b6 ∷ drive 46015 7 0x08000 ∷ drive 46015 0 0x013b7 ∷ drive 46015 7 0x00000 ∷ drive 46070 0 0x053b7 ∷ drive 46070 7 0x08000 ∷ drive 46070 0 0x013b8 ∷ drive 46070 7 0x00000 ∷ drive 46125 0 0x053b8 ∷ drive 46125 7 0x08000 ∷ drive 46125 0 0x012b9 ∷ drive 46125 7 0x00000 ∷ drive 46180 0 0x052b9 ∷ drive 46180 7 0x08000 ∷ drive 46180 0 0x012ba ∷ drive 46180 7 0x00000 ∷ drive 46235 0 0x052ba ∷ drive 46235 7 0x08000 ∷ drive 46235 0 0x013bb ∷ drive 46235 7 0x00000 ∷ drive 46290 0 0x053bb ∷ drive 46290 7 0x08000 ∷ drive 46290 0 0x012bc ∷ drive 46290 7 0x00000 ∷ drive 46345 0 0x052bc ∷ drive 46345 7 0x08000 ∷ drive 46345 0 0x013bd ∷ drive 46345 7 0x00000 ∷ drive 46400 0 0x053bd ∷ drive 46400 7 0x08000 ∷ drive 46400 0 0x013be ∷ drive 46400 7 0x00000 ∷ drive 46455 0 0x053be ∷ drive 46455 7 0x08000 ∷ drive 46455 0 0x012bf ∷ drive 46455 7 0x00000 ∷ drive 46510 0 0x052bf ∷ drive 46510 7 0x08000 ∷ drive 46510 0 0x01200 ∷ drive 46510 7 0x00000 ∷ drive 46510 0 0x01b00 ∷ drive 46910 0 0x05b00 ∷ drive 46910 7 0x08000 ∷ drive 46910 0 0x01a00 ∷ drive 46910 7 0x00000 ∷ drive 46910 0 0x03b00 ∷ drive 47310 0 0x07b00 ∷ drive 47310 7 0x08000 ∷ drive 47310 0 0x03a00 ∷ drive 47310 7 0x00000 ∷ drive 47310 0 0x00000 ∷ drive 48510 7 0x00280 ∷ drive 50910 7 0x00680 ∷ drive 52110 7 0x10781 ∷ drive 52200 7 0x10581 ∷ drive 52600 0 0x00200 ∷ drive 52690 7 0x10000 ∷ drive 52690 0 0x02a00 ∷ drive 53090 0 0x06a00 ∷ drive 53090 7 0x001c0 ∷ drive 53180 7 0x081c0 ∷ drive 53180 0 0x02a00 ∷ drive 53180 7 0x00000 ∷ drive 53180 0 0x00a00 ∷ drive 53580 0 0x04a00 ∷ drive 53580 7 0x0000b ∷ drive 53635 7 0x0800b ∷ drive 53635 0 0x00a00 ∷ drive 53635 7 0x00000 ∷ drive 53635 0 0x04a00 ∷ drive 53635 7 0x00100 ∷ drive 53690 7 0x08100 ∷ drive 53690 0 0x00a00 ∷ drive 53690 7 0x00000 ∷ drive 53690 0 0x04a00 ∷ drive 53690 7 0x00100 ∷ drive 53745 7 0x08100 ∷ drive 53745 0 0x00a00 ∷ drive 53745 7 0x00000 ∷ drive 53745 0 0x04a00 ∷ drive 53745 7 0x00100 ∷ drive 53800 7 0x08100 ∷ drive 53800 0 0x00a00 ∷ drive 53800 7 0x00000 ∷ drive 53800 0 0x04a00 ∷ drive 53800 7 0x00100 ∷ drive 53855 7 0x08100 ∷ drive 53855 0 0x00a00 ∷ drive 53855 7 0x00000 ∷ drive 53855 0 0x04a00 ∷ drive 53855 7 0x00100 ∷ drive 53910 7 0x08100 ∷ drive 53910 0 0x00a00 ∷ drive 53910 7 0x00000 ∷ drive 53910 0 0x01a00 ∷ drive 54710 0 0x01a02 ∷ drive 54765 0 0x05a02 ∷ drive 54765 7 0x08000 ∷ drive 54765 0 0x01a00 ∷ drive 54765 7 0x00000 ∷ drive 54765 0 0x03b00 ∷ drive 55165 0 0x07b00 ∷ drive 55165 7 0x08000 ∷ drive 55165 0 0x03a00 ∷ drive 55165 7 0x00000 ∷ drive 55165 0 0x00000 ∷ drive 56365 7 0x00280 ∷ drive 58765 7 0x00680 ∷ drive 59965 7 0x10781 ∷ drive 60055 7 0x10581 ∷ drive 60455 0 0x00200 ∷ drive 60545 7 0x10000 ∷ drive 60545 0 0x02a00 ∷ drive 60945 0 0x06a00 ∷ drive 60945 7 0x00080 ∷ drive 61035 7 0x08080 ∷ drive 61035 0 0x02a00 ∷ drive 61035 7 0x00000 ∷ drive 61035 0 0x00a00 ∷ drive 61435 0 0x04a00 ∷ drive 61435 7 0x00103 ∷ drive 61490 7 0x08103 ∷ drive 61490 0 0x00a00 ∷ drive 61490 7 0x00000 ∷ drive 61490 0 0x04a00 ∷ drive 61490 7 0x00100 ∷ drive 61545 7 0x08100 ∷ drive 61545 0 0x00a00 ∷ drive 61545 7 0x00000 ∷ drive 61545 0 0x04a00 ∷ drive 61545 7 0x00100 ∷ drive 61600 7 0x08100 ∷ drive 61600 0 0x00a00 ∷ drive 61600 7 0x00000 ∷ drive 61600 0 0x04a00 ∷ drive 61600 7 0x00100 ∷ drive 61655 7 0x08100 ∷ drive 61655 0 0x00a00 ∷ drive 61655 7 0x00000 ∷ drive 61655 0 0x04a00 ∷ drive 61655 7 0x00112 ∷ drive 61710 7 0x08112 ∷ drive 61710 0 0x00a00 ∷ drive 61710 7 0x00000 ∷ drive 61710 0 0x04a00 ∷ drive 61710 7 0x00100 ∷ drive 61765 7 0x08100 ∷ drive 61765 0 0x00a00 ∷ drive 61765 7 0x00000 ∷ drive 61765 0 0x01200 ∷ drive 62565 0 0x01270 ∷ drive 62620 0 0x05270 ∷ drive 62620 7 0x08000 ∷ drive 62620 0 0x01300 ∷ drive 62620 7 0x00000 ∷ drive 62675 0 0x05300 ∷ drive 62675 7 0x08000 ∷ drive 62675 0 0x01305 ∷ drive 62675 7 0x00000 ∷ drive 62730 0 0x05305 ∷ drive 62730 7 0x08000 ∷ drive 62730 0 0x01300 ∷ drive 62730 7 0x00000 ∷ drive 62785 0 0x05300 ∷ drive 62785 7 0x08000 ∷ drive 62785 0 0x01300 ∷ drive 62785 7 0x00000 ∷ drive 62840 0 0x05300 ∷ drive 62840 7 0x08000 ∷ drive 62840 0 0x01300 ∷ drive 62840 7 0x00000 ∷ drive 62895 0 0x05300 ∷ drive 62895 7 0x08000 ∷ drive 62895 0 0x01300 ∷ drive 62895 7 0x00000 ∷ drive 62950 0 0x05300 ∷ drive 62950 7 0x08000 ∷ drive 62950 0 0x0130a ∷ drive 62950 7 0x00000 ∷ drive 63005 0 0x0530a ∷ drive 63005 7 0x08000 ∷ drive 63005 0 0x01300 ∷ drive 63005 7 0x00000 ∷ drive 63060 0 0x05300 ∷ drive 63060 7 0x08000 ∷ drive 63060 0 0x01300 ∷ drive 63060 7 0x00000 ∷ drive 63115 0 0x05300 ∷ drive 63115 7 0x08000 ∷ drive 63115 0 0x01300 ∷ drive 63115 7 0x00000 ∷ drive 63170 0 0x05300 ∷ drive 63170 7 0x08000 ∷ drive 63170 0 0x01300 ∷ drive 63170 7 0x00000 ∷ drive 63225 0 0x05300 ∷ drive 63225 7 0x08000 ∷ drive 63225 0 0x01220 ∷ drive 63225 7 0x00000 ∷ drive 63280 0 0x05220 ∷ drive 63280 7 0x08000 ∷ drive 63280 0 0x01300 ∷ drive 63280 7 0x00000 ∷ drive 63335 0 0x05300 ∷ drive 63335 7 0x08000 ∷ drive 63335 0 0x01300 ∷ drive 63335 7 0x00000 ∷ drive 63390 0 0x05300 ∷ drive 63390 7 0x08000 ∷ drive 63390 0 0x01300 ∷ drive 63390 7 0x00000 ∷ drive 63445 0 0x05300 ∷ drive 63445 7 0x08000 ∷ drive 63445 0 0x01300 ∷ drive 63445 7 0x00000 ∷ drive 63500 0 0x05300 ∷ drive 63500 7 0x08000 ∷ drive 63500 0 0x01300 ∷ drive 63500 7 0x00000 ∷ drive 63555 0 0x05300 ∷ drive 63555 7 0x08000 ∷ drive 63555 0 0x01200 ∷ drive 63555 7 0x00000 ∷ drive 63555 0 0x01b00 ∷ drive 63955 0 0x05b00 ∷ drive 63955 7 0x08000 ∷ drive 63955 0 0x01a00 ∷ drive 63955 7 0x00000 ∷ drive 63955 0 0x03b00 ∷ drive 64355 0 0x07b00 ∷ drive 64355 7 0x08000 ∷ drive 64355 0 0x03a00 ∷ drive 64355 7 0x00000 ∷ drive 64355 0 0x00000 ∷ drive 65555 7 0x00280 ∷ drive 67955 7 0x00680 ∷ drive 69155 7 0x10781 ∷ drive 69245 7 0x10581 ∷ drive 69645 0 0x00200 ∷ drive 69735 7 0x10000 ∷ drive 69735 0 0x02a00 ∷ drive 70135 0 0x06a00 ∷ drive 70135 7 0x001c0 ∷ drive 70225 7 0x081c0 ∷ drive 70225 0 0x02a00 ∷ drive 70225 7 0x00000 ∷ drive 70225 0 0x00a00 ∷ drive 70625 0 0x04a00 ∷ drive 70625 7 0x00008 ∷ drive 70680 7 0x08008 ∷ drive 70680 0 0x00a00 ∷ drive 70680 7 0x00000 ∷ drive 70680 0 0x04a00 ∷ drive 70680 7 0x00100 ∷ drive 70735 7 0x08100 ∷ drive 70735 0 0x00a00 ∷ drive 70735 7 0x00000 ∷ drive 70735 0 0x04a00 ∷ drive 70735 7 0x00100 ∷ drive 70790 7 0x08100 ∷ drive 70790 0 0x00a00 ∷ drive 70790 7 0x00000 ∷ drive 70790 0 0x04a00 ∷ drive 70790 7 0x00100 ∷ drive 70845 7 0x08100 ∷ drive 70845 0 0x00a00 ∷ drive 70845 7 0x00000 ∷ drive 70845 0 0x04a00 ∷ drive 70845 7 0x00100 ∷ drive 70900 7 0x08100 ∷ drive 70900 0 0x00a00 ∷ drive 70900 7 0x00000 ∷ drive 70900 0 0x04a00 ∷ drive 70900 7 0x00100 ∷ drive 70955 7 0x08100 ∷ drive 70955 0 0x00a00 ∷ drive 70955 7 0x00000 ∷ drive 70955 0 0x01a00 ∷ drive 71755 0 0x01a02 ∷ drive 71810 0 0x05a02 ∷ drive 71810 7 0x08000 ∷ drive 71810 0 0x01a00 ∷ drive 71810 7 0x00000 ∷ drive 71810 0 0x03b00 ∷ drive 72210 0 0x07b00 ∷ drive 72210 7 0x08000 ∷ drive 72210 0 0x03a00 ∷ drive 72210 7 0x00000 ∷ drive 72210 0 0x00000 ∷ drive 73410 7 0x00280 ∷ drive 75810 7 0x00680 ∷ drive 77010 7 0x10781 ∷ drive 77100 7 0x10581 ∷ drive 77500 0 0x00200 ∷ drive 77590 7 0x10000 ∷ drive 77590 0 0x02a00 ∷ drive 77990 0 0x06a00 ∷ drive 77990 7 0x00080 ∷ drive 78080 7 0x08080 ∷ drive 78080 0 0x02a00 ∷ drive 78080 7 0x00000 ∷ drive 78080 0 0x00a00 ∷ drive 78480 0 0x04a00 ∷ drive 78480 7 0x00103 ∷ drive 78535 7 0x08103 ∷ drive 78535 0 0x00a00 ∷ drive 78535 7 0x00000 ∷ drive 78535 0 0x04a00 ∷ drive 78535 7 0x00100 ∷ drive 78590 7 0x08100 ∷ drive 78590 0 0x00a00 ∷ drive 78590 7 0x00000 ∷ drive 78590 0 0x04a00 ∷ drive 78590 7 0x00100 ∷ drive 78645 7 0x08100 ∷ drive 78645 0 0x00a00 ∷ drive 78645 7 0x00000 ∷ drive 78645 0 0x04a00 ∷ drive 78645 7 0x00100 ∷ drive 78700 7 0x08100 ∷ drive 78700 0 0x00a00 ∷ drive 78700 7 0x00000 ∷ drive 78700 0 0x04a00 ∷ drive 78700 7 0x00112 ∷ drive 78755 7 0x08112 ∷ drive 78755 0 0x00a00 ∷ drive 78755 7 0x00000 ∷ drive 78755 0 0x04a00 ∷ drive 78755 7 0x00100 ∷ drive 78810 7 0x08100 ∷ drive 78810 0 0x00a00 ∷ drive 78810 7 0x00000 ∷ drive 78810 0 0x01200 ∷ drive 79610 0 0x01270 ∷ drive 79665 0 0x05270 ∷ drive 79665 7 0x08000 ∷ drive 79665 0 0x01300 ∷ drive 79665 7 0x00000 ∷ drive 79720 0 0x05300 ∷ drive 79720 7 0x08000 ∷ drive 79720 0 0x01305 ∷ drive 79720 7 0x00000 ∷ drive 79775 0 0x05305 ∷ drive 79775 7 0x08000 ∷ drive 79775 0 0x01300 ∷ drive 79775 7 0x00000 ∷ drive 79830 0 0x05300 ∷ drive 79830 7 0x08000 ∷ drive 79830 0 0x01300 ∷ drive 79830 7 0x00000 ∷ drive 79885 0 0x05300 ∷ drive 79885 7 0x08000 ∷ drive 79885 0 0x01300 ∷ drive 79885 7 0x00000 ∷ drive 79940 0 0x05300 ∷ drive 79940 7 0x08000 ∷ drive 79940 0 0x01300 ∷ drive 79940 7 0x00000 ∷ drive 79995 0 0x05300 ∷ drive 79995 7 0x08000 ∷ drive 79995 0 0x0130a ∷ drive 79995 7 0x00000 ∷ drive 80050 0 0x0530a ∷ drive 80050 7 0x08000 ∷ drive 80050 0 0x01300 ∷ drive 80050 7 0x00000 ∷ drive 80105 0 0x05300 ∷ drive 80105 7 0x08000 ∷ drive 80105 0 0x01300 ∷ drive 80105 7 0x00000 ∷ drive 80160 0 0x05300 ∷ drive 80160 7 0x08000 ∷ drive 80160 0 0x01300 ∷ drive 80160 7 0x00000 ∷ drive 80215 0 0x05300 ∷ drive 80215 7 0x08000 ∷ drive 80215 0 0x01300 ∷ drive 80215 7 0x00000 ∷ drive 80270 0 0x05300 ∷ drive 80270 7 0x08000 ∷ drive 80270 0 0x01321 ∷ drive 80270 7 0x00000 ∷ drive 80325 0 0x05321 ∷ drive 80325 7 0x08000 ∷ drive 80325 0 0x01300 ∷ drive 80325 7 0x00000 ∷ drive 80380 0 0x05300 ∷ drive 80380 7 0x08000 ∷ drive 80380 0 0x01300 ∷ drive 80380 7 0x00000 ∷ drive 80435 0 0x05300 ∷ drive 80435 7 0x08000 ∷ drive 80435 0 0x01300 ∷ drive 80435 7 0x00000 ∷ drive 80490 0 0x05300 ∷ drive 80490 7 0x08000 ∷ drive 80490 0 0x01300 ∷ drive 80490 7 0x00000 ∷ drive 80545 0 0x05300 ∷ drive 80545 7 0x08000 ∷ drive 80545 0 0x01300 ∷ drive 80545 7 0x00000 ∷ drive 80600 0 0x05300 ∷ drive 80600 7 0x08000 ∷ drive 80600 0 0x01200 ∷ drive 80600 7 0x00000 ∷ drive 80600 0 0x01b00 ∷ drive 81000 0 0x05b00 ∷ drive 81000 7 0x08000 ∷ drive 81000 0 0x01a00 ∷ drive 81000 7 0x00000 ∷ drive 81000 0 0x03b00 ∷ drive 81400 0 0x07b00 ∷ drive 81400 7 0x08000 ∷ drive 81400 0 0x03a00 ∷ drive 81400 7 0x00000 ∷ drive 81400 0 0x00000 ∷ []

abbrev senses_run_events : List Event
senses_run_events = events.Accept (command 1) ∷ events.Run (command 1) ∷ events.End (command 1) 2 ∷ events.Accept (sense 1) ∷ events.Run (sense 1) ∷ events.End (sense 1) 0 ∷ events.Accept (command 2) ∷ events.Run (command 2) ∷ events.End (command 2) 0 ∷ events.Accept (command 3) ∷ events.Run (command 3) ∷ events.End (command 3) 0 ∷ events.Accept (command 4) ∷ events.Run (command 4) ∷ events.End (command 4) 0 ∷ events.Accept (command 5) ∷ events.Run (command 5) ∷ events.End (command 5) 2 ∷ events.Accept (sense 5) ∷ events.Run (sense 5) ∷ events.End (sense 5) 0 ∷ events.Accept (command 6) ∷ events.Run (command 6) ∷ events.End (command 6) 2 ∷ events.Accept (sense 6) ∷ events.Run (sense 6) ∷ events.End (sense 6) 0 ∷ []

senses_run_told : shown senses_run (story senses_run (reverse senses_run_rows)) (reverse senses_run_events) ≡ record { history = reverse senses_run_events; ends = Some (ended_check (Some (sense_of 5 33 0))) ∷ Some (ended_good (112 ∷ 0 ∷ 0 ∷ 0 ∷ 0 ∷ 0 ∷ 0 ∷ 10 ∷ 0 ∷ 0 ∷ 0 ∷ 0 ∷ 0 ∷ 0 ∷ 0 ∷ 0 ∷ 0 ∷ 0 ∷ [])) ∷ Some (ended_good ([])) ∷ Some (ended_good (0 ∷ 0 ∷ 0 ∷ 0 ∷ 0 ∷ 0 ∷ 0 ∷ 0 ∷ 0 ∷ 0 ∷ 0 ∷ 0 ∷ 0 ∷ 0 ∷ 0 ∷ 0 ∷ 160 ∷ 161 ∷ 162 ∷ 163 ∷ 164 ∷ 165 ∷ 166 ∷ 167 ∷ 168 ∷ 169 ∷ 170 ∷ 171 ∷ 172 ∷ 173 ∷ 174 ∷ 175 ∷ 176 ∷ 177 ∷ 178 ∷ 179 ∷ 180 ∷ 181 ∷ 182 ∷ 183 ∷ 184 ∷ 185 ∷ 186 ∷ 187 ∷ 188 ∷ 189 ∷ 190 ∷ 191 ∷ [])) ∷ Some (ended_check (Some (sense_of 5 32 0))) ∷ Some (ended_check (Some (sense_of 5 33 0))) ∷ []; carried = true }
unfolding need_of sent_of ones union_below line_of form_out form_in
senses_run_told = refl

-- ---- struck_command_run

abbrev struck_command_run : ScenarioValue
struck_command_run = record {
  version = 1;
  hosts = record { dev = 5; latency = 23; most = 1; retries = 2; period = 49; offset = 3; lag = 0; offers = true } ∷ record { dev = 6; latency = 61; most = 1; retries = 0; period = 0; offset = 3; lag = 0; offers = true } ∷ record { dev = 2; latency = 71; most = 2; retries = 5; period = 25; offset = 2; lag = 100; offers = true } ∷ record { dev = 0; latency = 24; most = 2; retries = 5; period = 49; offset = 1; lag = 100; offers = true } ∷ [];
  targets = record { dev = 7; latency = 89; retries = 0; disc = policies.Burst 1; pick = picks.First; seek = 0; period = 80; offset = 1; begins = false } ∷ [];
  units = record { target = 7; unit = 2; blocks = 8; size = 16; depth = 2 } ∷ record { target = 7; unit = 4; blocks = 2; size = 16; depth = 4 } ∷ [];
  fills = record { target = 7; unit = 2; lba = 1; bytes = (200 ∷ 177 ∷ 54 ∷ 81 ∷ 158 ∷ 0 ∷ 0 ∷ 179 ∷ 36 ∷ 78 ∷ 216 ∷ 227 ∷ 192 ∷ 49 ∷ 106 ∷ 0 ∷ []) } ∷ record { target = 7; unit = 2; lba = 2; bytes = (40 ∷ 34 ∷ 194 ∷ 65 ∷ 92 ∷ 0 ∷ 181 ∷ 0 ∷ 56 ∷ 77 ∷ 172 ∷ 0 ∷ 224 ∷ 0 ∷ 162 ∷ 220 ∷ []) } ∷ record { target = 7; unit = 2; lba = 5; bytes = (0 ∷ 0 ∷ 238 ∷ 0 ∷ 0 ∷ 208 ∷ 56 ∷ 0 ∷ 173 ∷ 80 ∷ 126 ∷ 134 ∷ 0 ∷ 232 ∷ 0 ∷ 34 ∷ []) } ∷ record { target = 7; unit = 2; lba = 6; bytes = (250 ∷ 0 ∷ 199 ∷ 72 ∷ 195 ∷ 59 ∷ 0 ∷ 0 ∷ 198 ∷ 0 ∷ 68 ∷ 0 ∷ 40 ∷ 251 ∷ 96 ∷ 98 ∷ []) } ∷ record { target = 7; unit = 4; lba = 0; bytes = (0 ∷ 204 ∷ 0 ∷ 0 ∷ 182 ∷ 0 ∷ 0 ∷ 0 ∷ 227 ∷ 144 ∷ 160 ∷ 0 ∷ 0 ∷ 199 ∷ 0 ∷ 0 ∷ []) } ∷ record { target = 7; unit = 4; lba = 1; bytes = (122 ∷ 226 ∷ 0 ∷ 72 ∷ 79 ∷ 204 ∷ 0 ∷ 136 ∷ 105 ∷ 0 ∷ 0 ∷ 62 ∷ 108 ∷ 133 ∷ 175 ∷ 0 ∷ []) } ∷ [];
  tapes = [];
  loads = [];
  commands = record { host = 6; target = 7; unit = 4; at = 60471; tag = tags.Untagged; cdb = (17 ∷ 0 ∷ 0 ∷ 0 ∷ 0 ∷ 0 ∷ []); payload = payloads.Nothing } ∷ record { host = 2; target = 7; unit = 2; at = 80321; tag = tags.Head 1; cdb = (10 ∷ 0 ∷ 0 ∷ 2 ∷ 2 ∷ 0 ∷ []); payload = payloads.From 27 } ∷ [];
  aborts = [];
  resets = record { dev = 5; at = 111836 } ∷ [];
  faults = record { at = 68609; bit = 2 } ∷ record { at = 143587; bit = 1 } ∷ [];
}

abbrev pub struck_command_run_rows : List Row
struck_command_run_rows = drive 60532 6 0x00240 ∷ drive 62993 6 0x00640 ∷ drive 64254 6 0x107c0 ∷ drive 64405 6 0x105c0 ∷ drive 64894 7 0x00200 ∷ drive 65045 6 0x10000 ∷ drive 65134 7 0x02a00 ∷ drive 65623 7 0x06a00 ∷ drive 65684 6 0x000c4 ∷ drive 65835 6 0x080c4 ∷ drive 65924 7 0x02a00 ∷ drive 65985 6 0x00000 ∷ drive 66074 7 0x00a00 ∷ drive 66563 7 0x04a00 ∷ drive 66624 6 0x00111 ∷ drive 66740 6 0x08111 ∷ drive 66829 7 0x00a00 ∷ drive 66890 6 0x00000 ∷ drive 66979 7 0x04a00 ∷ drive 67040 6 0x00100 ∷ drive 67156 6 0x08100 ∷ drive 67245 7 0x00a00 ∷ drive 67306 6 0x00000 ∷ drive 67395 7 0x04a00 ∷ drive 67456 6 0x00100 ∷ drive 67572 6 0x08100 ∷ drive 67661 7 0x00a00 ∷ drive 67722 6 0x00000 ∷ drive 67811 7 0x04a00 ∷ drive 67872 6 0x00100 ∷ drive 67988 6 0x08100 ∷ drive 68077 7 0x00a00 ∷ drive 68138 6 0x00000 ∷ drive 68227 7 0x04a00 ∷ drive 68288 6 0x00100 ∷ drive 68404 6 0x08100 ∷ drive 68493 7 0x00a00 ∷ drive 68554 6 0x00000 ∷ drive 68643 7 0x04a00 ∷ drive 68704 6 0x00100 ∷ drive 68820 6 0x08100 ∷ strike 68820 7 2 ∷ drive 68909 7 0x00a00 ∷ drive 68970 6 0x00000 ∷ drive 69059 7 0x01a00 ∷ drive 69948 7 0x01a02 ∷ drive 70092 7 0x05a02 ∷ drive 70153 6 0x08000 ∷ drive 70242 7 0x01a00 ∷ drive 70303 6 0x00000 ∷ drive 70392 7 0x03b00 ∷ drive 70881 7 0x07b00 ∷ drive 70942 6 0x08000 ∷ drive 71031 7 0x03a00 ∷ drive 71092 6 0x00000 ∷ drive 71181 7 0x00000 ∷ drive 72442 6 0x00240 ∷ drive 74903 6 0x00640 ∷ drive 76164 6 0x107c0 ∷ drive 76315 6 0x105c0 ∷ drive 76804 7 0x00200 ∷ drive 76955 6 0x10000 ∷ drive 77044 7 0x02a00 ∷ drive 77533 7 0x06a00 ∷ drive 77594 6 0x00184 ∷ drive 77745 6 0x08184 ∷ drive 77834 7 0x02a00 ∷ drive 77895 6 0x00000 ∷ drive 77984 7 0x00a00 ∷ drive 78473 7 0x04a00 ∷ drive 78534 6 0x00103 ∷ drive 78650 6 0x08103 ∷ drive 78739 7 0x00a00 ∷ drive 78800 6 0x00000 ∷ drive 78889 7 0x04a00 ∷ drive 78950 6 0x00100 ∷ drive 79066 6 0x08100 ∷ drive 79155 7 0x00a00 ∷ drive 79216 6 0x00000 ∷ drive 79305 7 0x04a00 ∷ drive 79366 6 0x00100 ∷ drive 79482 6 0x08100 ∷ drive 79571 7 0x00a00 ∷ drive 79632 6 0x00000 ∷ drive 79721 7 0x04a00 ∷ drive 79782 6 0x00100 ∷ drive 79898 6 0x08100 ∷ drive 79987 7 0x00a00 ∷ drive 80048 6 0x00000 ∷ drive 80137 7 0x04a00 ∷ drive 80198 6 0x00112 ∷ drive 80314 6 0x08112 ∷ drive 80403 7 0x00a00 ∷ drive 80464 6 0x00000 ∷ drive 80553 7 0x04a00 ∷ drive 80614 6 0x00100 ∷ drive 80730 6 0x08100 ∷ drive 80819 7 0x00a00 ∷ drive 80880 6 0x00000 ∷ drive 80969 7 0x01200 ∷ drive 81858 7 0x01270 ∷ drive 82002 7 0x05270 ∷ drive 82063 6 0x08000 ∷ drive 82152 7 0x01300 ∷ drive 82213 6 0x00000 ∷ drive 82302 7 0x05300 ∷ drive 82363 6 0x08000 ∷ drive 82452 7 0x0120b ∷ drive 82513 6 0x00000 ∷ drive 82602 7 0x0520b ∷ drive 82663 6 0x08000 ∷ drive 82752 7 0x01300 ∷ drive 82813 6 0x00000 ∷ drive 82902 7 0x05300 ∷ drive 82963 6 0x08000 ∷ drive 83052 7 0x01300 ∷ drive 83113 6 0x00000 ∷ drive 83202 7 0x05300 ∷ drive 83263 6 0x08000 ∷ drive 83352 7 0x01300 ∷ drive 83413 6 0x00000 ∷ drive 83502 7 0x05300 ∷ drive 83563 6 0x08000 ∷ drive 83652 7 0x01300 ∷ drive 83713 6 0x00000 ∷ drive 83802 7 0x05300 ∷ drive 83863 6 0x08000 ∷ drive 83952 7 0x0130a ∷ drive 84013 6 0x00000 ∷ drive 84102 7 0x0530a ∷ drive 84163 6 0x08000 ∷ drive 84252 7 0x01300 ∷ drive 84313 6 0x00000 ∷ drive 84402 7 0x05300 ∷ drive 84463 6 0x08000 ∷ drive 84552 7 0x01300 ∷ drive 84613 6 0x00000 ∷ drive 84702 7 0x05300 ∷ drive 84763 6 0x08000 ∷ drive 84852 7 0x01300 ∷ drive 84913 6 0x00000 ∷ drive 85002 7 0x05300 ∷ drive 85063 6 0x08000 ∷ drive 85152 7 0x01300 ∷ drive 85213 6 0x00000 ∷ drive 85302 7 0x05300 ∷ drive 85363 6 0x08000 ∷ drive 85452 7 0x01347 ∷ drive 85513 6 0x00000 ∷ drive 85602 7 0x05347 ∷ drive 85663 6 0x08000 ∷ drive 85752 7 0x01300 ∷ drive 85813 6 0x00000 ∷ drive 85902 7 0x05300 ∷ drive 85963 6 0x08000 ∷ drive 86052 7 0x01300 ∷ drive 86113 6 0x00000 ∷ drive 86202 7 0x05300 ∷ drive 86263 6 0x08000 ∷ drive 86352 7 0x01300 ∷ drive 86413 6 0x00000 ∷ drive 86502 7 0x05300 ∷ drive 86563 6 0x08000 ∷ drive 86652 7 0x01300 ∷ drive 86713 6 0x00000 ∷ drive 86802 7 0x05300 ∷ drive 86863 6 0x08000 ∷ drive 86952 7 0x01300 ∷ drive 87013 6 0x00000 ∷ drive 87102 7 0x05300 ∷ drive 87163 6 0x08000 ∷ drive 87252 7 0x01200 ∷ drive 87313 6 0x00000 ∷ drive 87402 7 0x01b00 ∷ drive 87891 7 0x05b00 ∷ drive 87952 6 0x08000 ∷ drive 88041 7 0x01a00 ∷ drive 88102 6 0x00000 ∷ drive 88191 7 0x03b00 ∷ drive 88680 7 0x07b00 ∷ drive 88741 6 0x08000 ∷ drive 88830 7 0x03a00 ∷ drive 88891 6 0x00000 ∷ drive 88980 7 0x00000 ∷ drive 90251 2 0x00204 ∷ drive 92722 2 0x00604 ∷ drive 93993 2 0x10784 ∷ drive 94154 2 0x10584 ∷ drive 94643 7 0x00200 ∷ drive 94804 2 0x10000 ∷ drive 94893 7 0x02a00 ∷ drive 95382 7 0x06a00 ∷ drive 95453 2 0x100c2 ∷ drive 95579 2 0x180c2 ∷ drive 95668 7 0x02a00 ∷ drive 95739 2 0x10000 ∷ drive 95828 7 0x06a00 ∷ drive 95899 2 0x10121 ∷ drive 96025 2 0x18121 ∷ drive 96114 7 0x02a00 ∷ drive 96185 2 0x10000 ∷ drive 96274 7 0x06a00 ∷ drive 96345 2 0x10001 ∷ drive 96471 2 0x18001 ∷ drive 96560 7 0x02a00 ∷ drive 96631 2 0x10000 ∷ drive 96720 7 0x06a00 ∷ drive 96791 2 0x10001 ∷ drive 96917 2 0x18001 ∷ drive 97006 7 0x02a00 ∷ drive 97077 2 0x10000 ∷ drive 97166 7 0x06a00 ∷ drive 97237 2 0x10103 ∷ drive 97363 2 0x18103 ∷ drive 97452 7 0x02a00 ∷ drive 97523 2 0x10000 ∷ drive 97612 7 0x06a00 ∷ drive 97683 2 0x10001 ∷ drive 97809 2 0x18001 ∷ drive 97898 7 0x02a00 ∷ drive 97969 2 0x10000 ∷ drive 98058 7 0x06a00 ∷ drive 98129 2 0x10019 ∷ drive 98255 2 0x18019 ∷ drive 98344 7 0x02a00 ∷ drive 98415 2 0x10000 ∷ drive 98504 7 0x06a00 ∷ drive 98575 2 0x00002 ∷ drive 98736 2 0x08002 ∷ drive 98825 7 0x02a00 ∷ drive 98896 2 0x00000 ∷ drive 98985 7 0x03a00 ∷ drive 99874 7 0x03a01 ∷ drive 100018 7 0x07a01 ∷ drive 100089 2 0x08000 ∷ drive 100178 7 0x03b03 ∷ drive 100249 2 0x00000 ∷ drive 100338 7 0x07b03 ∷ drive 100409 2 0x08000 ∷ drive 100498 7 0x03a01 ∷ drive 100569 2 0x00000 ∷ drive 100658 7 0x07a01 ∷ drive 100729 2 0x08000 ∷ drive 100818 7 0x03b50 ∷ drive 100889 2 0x00000 ∷ drive 100978 7 0x07b50 ∷ drive 101049 2 0x08000 ∷ drive 101138 7 0x03a01 ∷ drive 101209 2 0x00000 ∷ drive 101298 7 0x07a01 ∷ drive 101369 2 0x08000 ∷ drive 101458 7 0x03a00 ∷ drive 101529 2 0x00000 ∷ drive 101618 7 0x00a00 ∷ drive 102107 7 0x04a00 ∷ drive 102178 2 0x0010a ∷ drive 102304 2 0x0810a ∷ drive 102393 7 0x00a00 ∷ drive 102464 2 0x00000 ∷ drive 102553 7 0x04a00 ∷ drive 102624 2 0x00100 ∷ drive 102750 2 0x08100 ∷ drive 102839 7 0x00a00 ∷ drive 102910 2 0x00000 ∷ drive 102999 7 0x04a00 ∷ drive 103070 2 0x00100 ∷ drive 103196 2 0x08100 ∷ drive 103285 7 0x00a00 ∷ drive 103356 2 0x00000 ∷ drive 103445 7 0x04a00 ∷ drive 103516 2 0x00002 ∷ drive 103642 2 0x08002 ∷ drive 103731 7 0x00a00 ∷ drive 103802 2 0x00000 ∷ drive 103891 7 0x04a00 ∷ drive 103962 2 0x00002 ∷ drive 104088 2 0x08002 ∷ drive 104177 7 0x00a00 ∷ drive 104248 2 0x00000 ∷ drive 104337 7 0x04a00 ∷ drive 104408 2 0x00100 ∷ drive 104534 2 0x08100 ∷ drive 104623 7 0x00a00 ∷ drive 104694 2 0x00000 ∷ drive 104783 7 0x03a00 ∷ drive 105672 7 0x03a04 ∷ drive 105816 7 0x07a04 ∷ drive 105887 2 0x08000 ∷ drive 105976 7 0x03a00 ∷ drive 106047 2 0x00000 ∷ drive 106136 7 0x00000 ∷ drive 107425 7 0x00280 ∷ drive 109914 7 0x00680 ∷ drive 111203 7 0x01784 ∷ drive 111382 7 0x01584 ∷ drive 111836 5 0x20000 ∷ drive 111925 7 0x00000 ∷ drive 136859 5 0x00000 ∷ []

abbrev struck_command_run_events : List Event
struck_command_run_events = events.Fail (command 1) 71 ∷ events.End (command 1) 2 ∷ events.Accept (sense 1) ∷ events.Run (sense 1) ∷ events.End (sense 1) 0 ∷ events.Accept (command 2) ∷ events.Reset 5 ∷ []

struck_command_run_told : shown struck_command_run (story struck_command_run (reverse struck_command_run_rows)) (reverse struck_command_run_events) ≡ record { history = reverse struck_command_run_events; ends = Some (ended_check (Some (sense_of 11 71 0))) ∷ Some (ended_reset) ∷ []; carried = true }
unfolding need_of sent_of ones union_below line_of form_out form_in
struck_command_run_told = refl

struck_command_run_struck : expected_strikes struck_command_run (reverse struck_command_run_rows) ≡ row_strikes struck_command_run_rows
unfolding need_of sent_of ones union_below line_of form_out form_in
struck_command_run_struck = refl

-- ---- struck_complete_run

abbrev struck_complete_run : ScenarioValue
struck_complete_run = record {
  version = 1;
  hosts = record { dev = 7; latency = 0; most = 1; retries = 2; period = 0; offset = 0; lag = 0; offers = true } ∷ [];
  targets = record { dev = 0; latency = 0; retries = 2; disc = policies.Never; pick = picks.First; seek = 0; period = 0; offset = 0; begins = false } ∷ [];
  units = record { target = 0; unit = 0; blocks = 1; size = 16; depth = 1 } ∷ [];
  fills = record { target = 0; unit = 0; lba = 0; bytes = (0 ∷ 1 ∷ 2 ∷ 3 ∷ 4 ∷ 5 ∷ 6 ∷ 7 ∷ 8 ∷ 9 ∷ 10 ∷ 11 ∷ 12 ∷ 13 ∷ 14 ∷ 15 ∷ []) } ∷ [];
  tapes = [];
  loads = [];
  commands = record { host = 7; target = 0; unit = 0; at = 0; tag = tags.Untagged; cdb = (8 ∷ 0 ∷ 0 ∷ 0 ∷ 1 ∷ 0 ∷ []); payload = payloads.Nothing } ∷ [];
  aborts = [];
  resets = [];
  faults = record { at = 9080; bit = 0 } ∷ [];
}

abbrev pub struck_complete_run_rows : List Row
struck_complete_run_rows = drive 1200 7 0x00280 ∷ drive 3600 7 0x00680 ∷ drive 4800 7 0x10781 ∷ drive 4890 7 0x10581 ∷ drive 5290 0 0x00200 ∷ drive 5380 7 0x10000 ∷ drive 5380 0 0x02a00 ∷ drive 5780 0 0x06a00 ∷ drive 5780 7 0x001c0 ∷ drive 5870 7 0x081c0 ∷ drive 5870 0 0x02a00 ∷ drive 5870 7 0x00000 ∷ drive 5870 0 0x00a00 ∷ drive 6270 0 0x04a00 ∷ drive 6270 7 0x00008 ∷ drive 6325 7 0x08008 ∷ drive 6325 0 0x00a00 ∷ drive 6325 7 0x00000 ∷ drive 6325 0 0x04a00 ∷ drive 6325 7 0x00100 ∷ drive 6380 7 0x08100 ∷ drive 6380 0 0x00a00 ∷ drive 6380 7 0x00000 ∷ drive 6380 0 0x04a00 ∷ drive 6380 7 0x00100 ∷ drive 6435 7 0x08100 ∷ drive 6435 0 0x00a00 ∷ drive 6435 7 0x00000 ∷ drive 6435 0 0x04a00 ∷ drive 6435 7 0x00100 ∷ drive 6490 7 0x08100 ∷ drive 6490 0 0x00a00 ∷ drive 6490 7 0x00000 ∷ drive 6490 0 0x04a00 ∷ drive 6490 7 0x00001 ∷ drive 6545 7 0x08001 ∷ drive 6545 0 0x00a00 ∷ drive 6545 7 0x00000 ∷ drive 6545 0 0x04a00 ∷ drive 6545 7 0x00100 ∷ drive 6600 7 0x08100 ∷ drive 6600 0 0x00a00 ∷ drive 6600 7 0x00000 ∷ drive 6600 0 0x01200 ∷ drive 7400 0 0x01300 ∷ drive 7455 0 0x05300 ∷ drive 7455 7 0x08000 ∷ drive 7455 0 0x01201 ∷ drive 7455 7 0x00000 ∷ drive 7510 0 0x05201 ∷ drive 7510 7 0x08000 ∷ drive 7510 0 0x01202 ∷ drive 7510 7 0x00000 ∷ drive 7565 0 0x05202 ∷ drive 7565 7 0x08000 ∷ drive 7565 0 0x01303 ∷ drive 7565 7 0x00000 ∷ drive 7620 0 0x05303 ∷ drive 7620 7 0x08000 ∷ drive 7620 0 0x01204 ∷ drive 7620 7 0x00000 ∷ drive 7675 0 0x05204 ∷ drive 7675 7 0x08000 ∷ drive 7675 0 0x01305 ∷ drive 7675 7 0x00000 ∷ drive 7730 0 0x05305 ∷ drive 7730 7 0x08000 ∷ drive 7730 0 0x01306 ∷ drive 7730 7 0x00000 ∷ drive 7785 0 0x05306 ∷ drive 7785 7 0x08000 ∷ drive 7785 0 0x01207 ∷ drive 7785 7 0x00000 ∷ drive 7840 0 0x05207 ∷ drive 7840 7 0x08000 ∷ drive 7840 0 0x01208 ∷ drive 7840 7 0x00000 ∷ drive 7895 0 0x05208 ∷ drive 7895 7 0x08000 ∷ drive 7895 0 0x01309 ∷ drive 7895 7 0x00000 ∷ drive 7950 0 0x05309 ∷ drive 7950 7 0x08000 ∷ drive 7950 0 0x0130a ∷ drive 7950 7 0x00000 ∷ drive 8005 0 0x0530a ∷ drive 8005 7 0x08000 ∷ drive 8005 0 0x0120b ∷ drive 8005 7 0x00000 ∷ drive 8060 0 0x0520b ∷ drive 8060 7 0x08000 ∷ drive 8060 0 0x0130c ∷ drive 8060 7 0x00000 ∷ drive 8115 0 0x0530c ∷ drive 8115 7 0x08000 ∷ drive 8115 0 0x0120d ∷ drive 8115 7 0x00000 ∷ drive 8170 0 0x0520d ∷ drive 8170 7 0x08000 ∷ drive 8170 0 0x0120e ∷ drive 8170 7 0x00000 ∷ drive 8225 0 0x0520e ∷ drive 8225 7 0x08000 ∷ drive 8225 0 0x0130f ∷ drive 8225 7 0x00000 ∷ drive 8280 0 0x0530f ∷ drive 8280 7 0x08000 ∷ drive 8280 0 0x01200 ∷ drive 8280 7 0x00000 ∷ drive 8280 0 0x01b00 ∷ drive 8680 0 0x05b00 ∷ drive 8680 7 0x08000 ∷ drive 8680 0 0x01a00 ∷ drive 8680 7 0x00000 ∷ drive 8680 0 0x03b00 ∷ drive 9080 0 0x07b00 ∷ strike 9080 7 0 ∷ drive 9080 7 0x18000 ∷ drive 9080 0 0x03a00 ∷ drive 9170 7 0x10000 ∷ drive 9170 0 0x02a00 ∷ drive 9570 0 0x06a00 ∷ drive 9570 7 0x00109 ∷ drive 9660 7 0x08109 ∷ drive 9660 0 0x02a00 ∷ drive 9660 7 0x00000 ∷ drive 9660 0 0x03a00 ∷ drive 10460 0 0x03b00 ∷ drive 10515 0 0x07b00 ∷ drive 10515 7 0x08000 ∷ drive 10515 0 0x03a00 ∷ drive 10515 7 0x00000 ∷ drive 10515 0 0x00000 ∷ []

abbrev struck_complete_run_events : List Event
struck_complete_run_events = events.Accept (command 1) ∷ events.Run (command 1) ∷ events.End (command 1) 0 ∷ []

struck_complete_run_told : shown struck_complete_run (story struck_complete_run (reverse struck_complete_run_rows)) (reverse struck_complete_run_events) ≡ record { history = reverse struck_complete_run_events; ends = Some (ended_good (0 ∷ 1 ∷ 2 ∷ 3 ∷ 4 ∷ 5 ∷ 6 ∷ 7 ∷ 8 ∷ 9 ∷ 10 ∷ 11 ∷ 12 ∷ 13 ∷ 14 ∷ 15 ∷ [])) ∷ []; carried = true }
unfolding need_of sent_of ones union_below line_of form_out form_in
struck_complete_run_told = refl

struck_complete_run_struck : expected_strikes struck_complete_run (reverse struck_complete_run_rows) ≡ row_strikes struck_complete_run_rows
unfolding need_of sent_of ones union_below line_of form_out form_in
struck_complete_run_struck = refl

-- ---- struck_data_run

abbrev struck_data_run : ScenarioValue
struck_data_run = record {
  version = 1;
  hosts = record { dev = 7; latency = 0; most = 1; retries = 2; period = 0; offset = 0; lag = 0; offers = true } ∷ [];
  targets = record { dev = 0; latency = 0; retries = 2; disc = policies.Never; pick = picks.First; seek = 0; period = 0; offset = 0; begins = false } ∷ [];
  units = record { target = 0; unit = 0; blocks = 1; size = 16; depth = 1 } ∷ [];
  fills = record { target = 0; unit = 0; lba = 0; bytes = (0 ∷ 1 ∷ 2 ∷ 3 ∷ 4 ∷ 5 ∷ 6 ∷ 7 ∷ 8 ∷ 9 ∷ 10 ∷ 11 ∷ 12 ∷ 13 ∷ 14 ∷ 15 ∷ []) } ∷ [];
  tapes = [];
  loads = [];
  commands = record { host = 7; target = 0; unit = 0; at = 0; tag = tags.Untagged; cdb = (8 ∷ 0 ∷ 0 ∷ 0 ∷ 1 ∷ 0 ∷ []); payload = payloads.Nothing } ∷ [];
  aborts = [];
  resets = [];
  faults = record { at = 8280; bit = 8 } ∷ record { at = 11000; bit = 0 } ∷ [];
}

abbrev pub struck_data_run_rows : List Row
struck_data_run_rows = drive 1200 7 0x00280 ∷ drive 3600 7 0x00680 ∷ drive 4800 7 0x10781 ∷ drive 4890 7 0x10581 ∷ drive 5290 0 0x00200 ∷ drive 5380 7 0x10000 ∷ drive 5380 0 0x02a00 ∷ drive 5780 0 0x06a00 ∷ drive 5780 7 0x001c0 ∷ drive 5870 7 0x081c0 ∷ drive 5870 0 0x02a00 ∷ drive 5870 7 0x00000 ∷ drive 5870 0 0x00a00 ∷ drive 6270 0 0x04a00 ∷ drive 6270 7 0x00008 ∷ drive 6325 7 0x08008 ∷ drive 6325 0 0x00a00 ∷ drive 6325 7 0x00000 ∷ drive 6325 0 0x04a00 ∷ drive 6325 7 0x00100 ∷ drive 6380 7 0x08100 ∷ drive 6380 0 0x00a00 ∷ drive 6380 7 0x00000 ∷ drive 6380 0 0x04a00 ∷ drive 6380 7 0x00100 ∷ drive 6435 7 0x08100 ∷ drive 6435 0 0x00a00 ∷ drive 6435 7 0x00000 ∷ drive 6435 0 0x04a00 ∷ drive 6435 7 0x00100 ∷ drive 6490 7 0x08100 ∷ drive 6490 0 0x00a00 ∷ drive 6490 7 0x00000 ∷ drive 6490 0 0x04a00 ∷ drive 6490 7 0x00001 ∷ drive 6545 7 0x08001 ∷ drive 6545 0 0x00a00 ∷ drive 6545 7 0x00000 ∷ drive 6545 0 0x04a00 ∷ drive 6545 7 0x00100 ∷ drive 6600 7 0x08100 ∷ drive 6600 0 0x00a00 ∷ drive 6600 7 0x00000 ∷ drive 6600 0 0x01200 ∷ drive 7400 0 0x01300 ∷ drive 7455 0 0x05300 ∷ drive 7455 7 0x08000 ∷ drive 7455 0 0x01201 ∷ drive 7455 7 0x00000 ∷ drive 7510 0 0x05201 ∷ drive 7510 7 0x08000 ∷ drive 7510 0 0x01202 ∷ drive 7510 7 0x00000 ∷ drive 7565 0 0x05202 ∷ drive 7565 7 0x08000 ∷ drive 7565 0 0x01303 ∷ drive 7565 7 0x00000 ∷ drive 7620 0 0x05303 ∷ drive 7620 7 0x08000 ∷ drive 7620 0 0x01204 ∷ drive 7620 7 0x00000 ∷ drive 7675 0 0x05204 ∷ drive 7675 7 0x08000 ∷ drive 7675 0 0x01305 ∷ drive 7675 7 0x00000 ∷ drive 7730 0 0x05305 ∷ drive 7730 7 0x08000 ∷ drive 7730 0 0x01306 ∷ drive 7730 7 0x00000 ∷ drive 7785 0 0x05306 ∷ drive 7785 7 0x08000 ∷ drive 7785 0 0x01207 ∷ drive 7785 7 0x00000 ∷ drive 7840 0 0x05207 ∷ drive 7840 7 0x08000 ∷ drive 7840 0 0x01208 ∷ drive 7840 7 0x00000 ∷ drive 7895 0 0x05208 ∷ drive 7895 7 0x08000 ∷ drive 7895 0 0x01309 ∷ drive 7895 7 0x00000 ∷ drive 7950 0 0x05309 ∷ drive 7950 7 0x08000 ∷ drive 7950 0 0x0130a ∷ drive 7950 7 0x00000 ∷ drive 8005 0 0x0530a ∷ drive 8005 7 0x08000 ∷ drive 8005 0 0x0120b ∷ drive 8005 7 0x00000 ∷ drive 8060 0 0x0520b ∷ drive 8060 7 0x08000 ∷ drive 8060 0 0x0130c ∷ drive 8060 7 0x00000 ∷ drive 8115 0 0x0530c ∷ drive 8115 7 0x08000 ∷ drive 8115 0 0x0120d ∷ drive 8115 7 0x00000 ∷ drive 8170 0 0x0520d ∷ drive 8170 7 0x08000 ∷ drive 8170 0 0x0120e ∷ drive 8170 7 0x00000 ∷ drive 8225 0 0x0520e ∷ drive 8225 7 0x08000 ∷ drive 8225 0 0x0130f ∷ drive 8225 7 0x00000 ∷ drive 8280 0 0x0530f ∷ strike 8280 7 8 ∷ drive 8280 7 0x18000 ∷ drive 8280 0 0x01200 ∷ drive 8370 7 0x10000 ∷ drive 8370 0 0x02a00 ∷ drive 8770 0 0x06a00 ∷ drive 8770 7 0x00105 ∷ drive 8860 7 0x08105 ∷ drive 8860 0 0x02a00 ∷ drive 8860 7 0x00000 ∷ drive 8860 0 0x03a00 ∷ drive 9660 0 0x03b03 ∷ drive 9715 0 0x07b03 ∷ drive 9715 7 0x08000 ∷ drive 9715 0 0x03a00 ∷ drive 9715 7 0x00000 ∷ drive 9715 0 0x01300 ∷ drive 10115 0 0x05300 ∷ drive 10115 7 0x08000 ∷ drive 10115 0 0x01201 ∷ drive 10115 7 0x00000 ∷ drive 10170 0 0x05201 ∷ drive 10170 7 0x08000 ∷ drive 10170 0 0x01202 ∷ drive 10170 7 0x00000 ∷ drive 10225 0 0x05202 ∷ drive 10225 7 0x08000 ∷ drive 10225 0 0x01303 ∷ drive 10225 7 0x00000 ∷ drive 10280 0 0x05303 ∷ drive 10280 7 0x08000 ∷ drive 10280 0 0x01204 ∷ drive 10280 7 0x00000 ∷ drive 10335 0 0x05204 ∷ drive 10335 7 0x08000 ∷ drive 10335 0 0x01305 ∷ drive 10335 7 0x00000 ∷ drive 10390 0 0x05305 ∷ drive 10390 7 0x08000 ∷ drive 10390 0 0x01306 ∷ drive 10390 7 0x00000 ∷ drive 10445 0 0x05306 ∷ drive 10445 7 0x08000 ∷ drive 10445 0 0x01207 ∷ drive 10445 7 0x00000 ∷ drive 10500 0 0x05207 ∷ drive 10500 7 0x08000 ∷ drive 10500 0 0x01208 ∷ drive 10500 7 0x00000 ∷ drive 10555 0 0x05208 ∷ drive 10555 7 0x08000 ∷ drive 10555 0 0x01309 ∷ drive 10555 7 0x00000 ∷ drive 10610 0 0x05309 ∷ drive 10610 7 0x08000 ∷ drive 10610 0 0x0130a ∷ drive 10610 7 0x00000 ∷ drive 10665 0 0x0530a ∷ drive 10665 7 0x08000 ∷ drive 10665 0 0x0120b ∷ drive 10665 7 0x00000 ∷ drive 10720 0 0x0520b ∷ drive 10720 7 0x08000 ∷ drive 10720 0 0x0130c ∷ drive 10720 7 0x00000 ∷ drive 10775 0 0x0530c ∷ drive 10775 7 0x08000 ∷ drive 10775 0 0x0120d ∷ drive 10775 7 0x00000 ∷ drive 10830 0 0x0520d ∷ drive 10830 7 0x08000 ∷ drive 10830 0 0x0120e ∷ drive 10830 7 0x00000 ∷ drive 10885 0 0x0520e ∷ drive 10885 7 0x08000 ∷ drive 10885 0 0x0130f ∷ drive 10885 7 0x00000 ∷ drive 10940 0 0x0530f ∷ drive 10940 7 0x08000 ∷ drive 10940 0 0x01200 ∷ drive 10940 7 0x00000 ∷ drive 10940 0 0x01b00 ∷ drive 11340 0 0x05b00 ∷ strike 11340 7 0 ∷ drive 11340 7 0x18000 ∷ drive 11340 0 0x01a00 ∷ drive 11430 7 0x10000 ∷ drive 11430 0 0x02a00 ∷ drive 11830 0 0x06a00 ∷ drive 11830 7 0x00105 ∷ drive 11920 7 0x08105 ∷ drive 11920 0 0x02a00 ∷ drive 11920 7 0x00000 ∷ drive 11920 0 0x03a00 ∷ drive 12720 0 0x03b03 ∷ drive 12775 0 0x07b03 ∷ drive 12775 7 0x08000 ∷ drive 12775 0 0x03a00 ∷ drive 12775 7 0x00000 ∷ drive 12775 0 0x01b00 ∷ drive 13175 0 0x05b00 ∷ drive 13175 7 0x08000 ∷ drive 13175 0 0x01a00 ∷ drive 13175 7 0x00000 ∷ drive 13175 0 0x03b00 ∷ drive 13575 0 0x07b00 ∷ drive 13575 7 0x08000 ∷ drive 13575 0 0x03a00 ∷ drive 13575 7 0x00000 ∷ drive 13575 0 0x00000 ∷ []

abbrev struck_data_run_events : List Event
struck_data_run_events = events.Accept (command 1) ∷ events.Run (command 1) ∷ events.End (command 1) 0 ∷ []

struck_data_run_told : shown struck_data_run (story struck_data_run (reverse struck_data_run_rows)) (reverse struck_data_run_events) ≡ record { history = reverse struck_data_run_events; ends = Some (ended_good (0 ∷ 1 ∷ 2 ∷ 3 ∷ 4 ∷ 5 ∷ 6 ∷ 7 ∷ 8 ∷ 9 ∷ 10 ∷ 11 ∷ 12 ∷ 13 ∷ 14 ∷ 15 ∷ [])) ∷ []; carried = true }
unfolding need_of sent_of ones union_below line_of form_out form_in
struck_data_run_told = refl

struck_data_run_struck : expected_strikes struck_data_run (reverse struck_data_run_rows) ≡ row_strikes struck_data_run_rows
unfolding need_of sent_of ones union_below line_of form_out form_in
struck_data_run_struck = refl

-- ---- struck_disconnect_run

abbrev struck_disconnect_run : ScenarioValue
struck_disconnect_run = record {
  version = 1;
  hosts = record { dev = 7; latency = 0; most = 1; retries = 0; period = 0; offset = 0; lag = 0; offers = true } ∷ [];
  targets = record { dev = 0; latency = 0; retries = 0; disc = policies.Command; pick = picks.First; seek = 0; period = 0; offset = 0; begins = false } ∷ [];
  units = record { target = 0; unit = 0; blocks = 1; size = 16; depth = 1 } ∷ [];
  fills = record { target = 0; unit = 0; lba = 0; bytes = (0 ∷ 1 ∷ 2 ∷ 3 ∷ 4 ∷ 5 ∷ 6 ∷ 7 ∷ 8 ∷ 9 ∷ 10 ∷ 11 ∷ 12 ∷ 13 ∷ 14 ∷ 15 ∷ []) } ∷ [];
  tapes = [];
  loads = [];
  commands = record { host = 7; target = 0; unit = 0; at = 0; tag = tags.Simple 1; cdb = (8 ∷ 0 ∷ 0 ∷ 0 ∷ 1 ∷ 0 ∷ []); payload = payloads.Nothing } ∷ [];
  aborts = [];
  resets = [];
  faults = record { at = 7565; bit = 0 } ∷ [];
}

abbrev pub struck_disconnect_run_rows : List Row
struck_disconnect_run_rows = drive 1200 7 0x00280 ∷ drive 3600 7 0x00680 ∷ drive 4800 7 0x10781 ∷ drive 4890 7 0x10581 ∷ drive 5290 0 0x00200 ∷ drive 5380 7 0x10000 ∷ drive 5380 0 0x02a00 ∷ drive 5780 0 0x06a00 ∷ drive 5780 7 0x101c0 ∷ drive 5835 7 0x181c0 ∷ drive 5835 0 0x02a00 ∷ drive 5835 7 0x10000 ∷ drive 5835 0 0x06a00 ∷ drive 5835 7 0x10020 ∷ drive 5890 7 0x18020 ∷ drive 5890 0 0x02a00 ∷ drive 5890 7 0x10000 ∷ drive 5890 0 0x06a00 ∷ drive 5890 7 0x00001 ∷ drive 5980 7 0x08001 ∷ drive 5980 0 0x02a00 ∷ drive 5980 7 0x00000 ∷ drive 5980 0 0x00a00 ∷ drive 6380 0 0x04a00 ∷ drive 6380 7 0x00008 ∷ drive 6435 7 0x08008 ∷ drive 6435 0 0x00a00 ∷ drive 6435 7 0x00000 ∷ drive 6435 0 0x04a00 ∷ drive 6435 7 0x00100 ∷ drive 6490 7 0x08100 ∷ drive 6490 0 0x00a00 ∷ drive 6490 7 0x00000 ∷ drive 6490 0 0x04a00 ∷ drive 6490 7 0x00100 ∷ drive 6545 7 0x08100 ∷ drive 6545 0 0x00a00 ∷ drive 6545 7 0x00000 ∷ drive 6545 0 0x04a00 ∷ drive 6545 7 0x00100 ∷ drive 6600 7 0x08100 ∷ drive 6600 0 0x00a00 ∷ drive 6600 7 0x00000 ∷ drive 6600 0 0x04a00 ∷ drive 6600 7 0x00001 ∷ drive 6655 7 0x08001 ∷ drive 6655 0 0x00a00 ∷ drive 6655 7 0x00000 ∷ drive 6655 0 0x04a00 ∷ drive 6655 7 0x00100 ∷ drive 6710 7 0x08100 ∷ drive 6710 0 0x00a00 ∷ drive 6710 7 0x00000 ∷ drive 6710 0 0x03a00 ∷ drive 7510 0 0x03a04 ∷ drive 7565 0 0x07a04 ∷ strike 7565 7 0 ∷ drive 7565 7 0x18000 ∷ drive 7565 0 0x03a00 ∷ drive 7655 7 0x10000 ∷ drive 7655 0 0x02a00 ∷ drive 8055 0 0x06a00 ∷ drive 8055 7 0x00109 ∷ drive 8145 7 0x08109 ∷ drive 8145 0 0x02a00 ∷ drive 8145 7 0x00000 ∷ drive 8145 0 0x00000 ∷ []

abbrev struck_disconnect_run_events : List Event
struck_disconnect_run_events = events.Accept (command 1) ∷ events.Lost (command 1) ∷ []

struck_disconnect_run_told : shown struck_disconnect_run (story struck_disconnect_run (reverse struck_disconnect_run_rows)) (reverse struck_disconnect_run_events) ≡ record { history = reverse struck_disconnect_run_events; ends = Some (ended_lost) ∷ []; carried = true }
unfolding need_of sent_of ones union_below line_of form_out form_in
struck_disconnect_run_told = refl

struck_disconnect_run_struck : expected_strikes struck_disconnect_run (reverse struck_disconnect_run_rows) ≡ row_strikes struck_disconnect_run_rows
unfolding need_of sent_of ones union_below line_of form_out form_in
struck_disconnect_run_struck = refl

-- ---- struck_save_run

abbrev struck_save_run : ScenarioValue
struck_save_run = record {
  version = 1;
  hosts = record { dev = 7; latency = 0; most = 1; retries = 2; period = 0; offset = 0; lag = 0; offers = true } ∷ [];
  targets = record { dev = 0; latency = 0; retries = 2; disc = policies.Burst 1; pick = picks.First; seek = 0; period = 0; offset = 0; begins = false } ∷ [];
  units = record { target = 0; unit = 0; blocks = 4; size = 16; depth = 1 } ∷ [];
  fills = [];
  tapes = [];
  loads = [];
  commands = record { host = 7; target = 0; unit = 0; at = 0; tag = tags.Simple 1; cdb = (10 ∷ 0 ∷ 0 ∷ 0 ∷ 4 ∷ 0 ∷ []); payload = payloads.From 0 } ∷ [];
  aborts = [];
  resets = [];
  faults = record { at = 15590; bit = 0 } ∷ [];
}

abbrev pub struck_save_run_rows : List Row
struck_save_run_rows = drive 1200 7 0x00280 ∷ drive 3600 7 0x00680 ∷ drive 4800 7 0x10781 ∷ drive 4890 7 0x10581 ∷ drive 5290 0 0x00200 ∷ drive 5380 7 0x10000 ∷ drive 5380 0 0x02a00 ∷ drive 5780 0 0x06a00 ∷ drive 5780 7 0x101c0 ∷ drive 5835 7 0x181c0 ∷ drive 5835 0 0x02a00 ∷ drive 5835 7 0x10000 ∷ drive 5835 0 0x06a00 ∷ drive 5835 7 0x10020 ∷ drive 5890 7 0x18020 ∷ drive 5890 0 0x02a00 ∷ drive 5890 7 0x10000 ∷ drive 5890 0 0x06a00 ∷ drive 5890 7 0x00001 ∷ drive 5980 7 0x08001 ∷ drive 5980 0 0x02a00 ∷ drive 5980 7 0x00000 ∷ drive 5980 0 0x00a00 ∷ drive 6380 0 0x04a00 ∷ drive 6380 7 0x0010a ∷ drive 6435 7 0x0810a ∷ drive 6435 0 0x00a00 ∷ drive 6435 7 0x00000 ∷ drive 6435 0 0x04a00 ∷ drive 6435 7 0x00100 ∷ drive 6490 7 0x08100 ∷ drive 6490 0 0x00a00 ∷ drive 6490 7 0x00000 ∷ drive 6490 0 0x04a00 ∷ drive 6490 7 0x00100 ∷ drive 6545 7 0x08100 ∷ drive 6545 0 0x00a00 ∷ drive 6545 7 0x00000 ∷ drive 6545 0 0x04a00 ∷ drive 6545 7 0x00100 ∷ drive 6600 7 0x08100 ∷ drive 6600 0 0x00a00 ∷ drive 6600 7 0x00000 ∷ drive 6600 0 0x04a00 ∷ drive 6600 7 0x00004 ∷ drive 6655 7 0x08004 ∷ drive 6655 0 0x00a00 ∷ drive 6655 7 0x00000 ∷ drive 6655 0 0x04a00 ∷ drive 6655 7 0x00100 ∷ drive 6710 7 0x08100 ∷ drive 6710 0 0x00a00 ∷ drive 6710 7 0x00000 ∷ drive 6710 0 0x03a00 ∷ drive 7510 0 0x03a04 ∷ drive 7565 0 0x07a04 ∷ drive 7565 7 0x08000 ∷ drive 7565 0 0x03a00 ∷ drive 7565 7 0x00000 ∷ drive 7565 0 0x00000 ∷ drive 8765 0 0x00201 ∷ drive 11165 0 0x00601 ∷ drive 12365 0 0x01781 ∷ drive 12455 0 0x01581 ∷ drive 12855 7 0x00200 ∷ drive 12855 0 0x01781 ∷ drive 12945 0 0x03a80 ∷ drive 12945 7 0x00000 ∷ drive 13345 0 0x07a80 ∷ drive 13345 7 0x08000 ∷ drive 13345 0 0x03a20 ∷ drive 13345 7 0x00000 ∷ drive 13400 0 0x07a20 ∷ drive 13400 7 0x08000 ∷ drive 13400 0 0x03a01 ∷ drive 13400 7 0x00000 ∷ drive 13455 0 0x07a01 ∷ drive 13455 7 0x08000 ∷ drive 13455 0 0x03a00 ∷ drive 13455 7 0x00000 ∷ drive 13455 0 0x00200 ∷ drive 13855 0 0x04200 ∷ drive 13855 7 0x00100 ∷ drive 13910 7 0x08100 ∷ drive 13910 0 0x00200 ∷ drive 13910 7 0x00000 ∷ drive 13910 0 0x04200 ∷ drive 13910 7 0x00001 ∷ drive 13965 7 0x08001 ∷ drive 13965 0 0x00200 ∷ drive 13965 7 0x00000 ∷ drive 13965 0 0x04200 ∷ drive 13965 7 0x00002 ∷ drive 14020 7 0x08002 ∷ drive 14020 0 0x00200 ∷ drive 14020 7 0x00000 ∷ drive 14020 0 0x04200 ∷ drive 14020 7 0x00103 ∷ drive 14075 7 0x08103 ∷ drive 14075 0 0x00200 ∷ drive 14075 7 0x00000 ∷ drive 14075 0 0x04200 ∷ drive 14075 7 0x00004 ∷ drive 14130 7 0x08004 ∷ drive 14130 0 0x00200 ∷ drive 14130 7 0x00000 ∷ drive 14130 0 0x04200 ∷ drive 14130 7 0x00105 ∷ drive 14185 7 0x08105 ∷ drive 14185 0 0x00200 ∷ drive 14185 7 0x00000 ∷ drive 14185 0 0x04200 ∷ drive 14185 7 0x00106 ∷ drive 14240 7 0x08106 ∷ drive 14240 0 0x00200 ∷ drive 14240 7 0x00000 ∷ drive 14240 0 0x04200 ∷ drive 14240 7 0x00007 ∷ drive 14295 7 0x08007 ∷ drive 14295 0 0x00200 ∷ drive 14295 7 0x00000 ∷ drive 14295 0 0x04200 ∷ drive 14295 7 0x00008 ∷ drive 14350 7 0x08008 ∷ drive 14350 0 0x00200 ∷ drive 14350 7 0x00000 ∷ drive 14350 0 0x04200 ∷ drive 14350 7 0x00109 ∷ drive 14405 7 0x08109 ∷ drive 14405 0 0x00200 ∷ drive 14405 7 0x00000 ∷ drive 14405 0 0x04200 ∷ drive 14405 7 0x0010a ∷ drive 14460 7 0x0810a ∷ drive 14460 0 0x00200 ∷ drive 14460 7 0x00000 ∷ drive 14460 0 0x04200 ∷ drive 14460 7 0x0000b ∷ drive 14515 7 0x0800b ∷ drive 14515 0 0x00200 ∷ drive 14515 7 0x00000 ∷ drive 14515 0 0x04200 ∷ drive 14515 7 0x0010c ∷ drive 14570 7 0x0810c ∷ drive 14570 0 0x00200 ∷ drive 14570 7 0x00000 ∷ drive 14570 0 0x04200 ∷ drive 14570 7 0x0000d ∷ drive 14625 7 0x0800d ∷ drive 14625 0 0x00200 ∷ drive 14625 7 0x00000 ∷ drive 14625 0 0x04200 ∷ drive 14625 7 0x0000e ∷ drive 14680 7 0x0800e ∷ drive 14680 0 0x00200 ∷ drive 14680 7 0x00000 ∷ drive 14680 0 0x04200 ∷ drive 14680 7 0x0010f ∷ drive 14735 7 0x0810f ∷ drive 14735 0 0x00200 ∷ drive 14735 7 0x00000 ∷ drive 14735 0 0x03a00 ∷ drive 15535 0 0x03a02 ∷ drive 15590 0 0x07a02 ∷ strike 15590 7 0 ∷ drive 15590 7 0x18000 ∷ drive 15590 0 0x03a00 ∷ drive 15680 7 0x10000 ∷ drive 15680 0 0x02a00 ∷ drive 16080 0 0x06a00 ∷ drive 16080 7 0x00109 ∷ drive 16170 7 0x08109 ∷ drive 16170 0 0x02a00 ∷ drive 16170 7 0x00000 ∷ drive 16170 0 0x03a00 ∷ drive 16970 0 0x03a02 ∷ drive 17025 0 0x07a02 ∷ drive 17025 7 0x08000 ∷ drive 17025 0 0x03a04 ∷ drive 17025 7 0x00000 ∷ drive 17080 0 0x07a04 ∷ drive 17080 7 0x08000 ∷ drive 17080 0 0x03a00 ∷ drive 17080 7 0x00000 ∷ drive 17080 0 0x00000 ∷ drive 18280 0 0x00201 ∷ drive 20680 0 0x00601 ∷ drive 21880 0 0x01781 ∷ drive 21970 0 0x01581 ∷ drive 22370 7 0x00200 ∷ drive 22370 0 0x01781 ∷ drive 22460 0 0x03a80 ∷ drive 22460 7 0x00000 ∷ drive 22860 0 0x07a80 ∷ drive 22860 7 0x08000 ∷ drive 22860 0 0x03a20 ∷ drive 22860 7 0x00000 ∷ drive 22915 0 0x07a20 ∷ drive 22915 7 0x08000 ∷ drive 22915 0 0x03a01 ∷ drive 22915 7 0x00000 ∷ drive 22970 0 0x07a01 ∷ drive 22970 7 0x08000 ∷ drive 22970 0 0x03a00 ∷ drive 22970 7 0x00000 ∷ drive 22970 0 0x00200 ∷ drive 23370 0 0x04200 ∷ drive 23370 7 0x00010 ∷ drive 23425 7 0x08010 ∷ drive 23425 0 0x00200 ∷ drive 23425 7 0x00000 ∷ drive 23425 0 0x04200 ∷ drive 23425 7 0x00111 ∷ drive 23480 7 0x08111 ∷ drive 23480 0 0x00200 ∷ drive 23480 7 0x00000 ∷ drive 23480 0 0x04200 ∷ drive 23480 7 0x00112 ∷ drive 23535 7 0x08112 ∷ drive 23535 0 0x00200 ∷ drive 23535 7 0x00000 ∷ drive 23535 0 0x04200 ∷ drive 23535 7 0x00013 ∷ drive 23590 7 0x08013 ∷ drive 23590 0 0x00200 ∷ drive 23590 7 0x00000 ∷ drive 23590 0 0x04200 ∷ drive 23590 7 0x00114 ∷ drive 23645 7 0x08114 ∷ drive 23645 0 0x00200 ∷ drive 23645 7 0x00000 ∷ drive 23645 0 0x04200 ∷ drive 23645 7 0x00015 ∷ drive 23700 7 0x08015 ∷ drive 23700 0 0x00200 ∷ drive 23700 7 0x00000 ∷ drive 23700 0 0x04200 ∷ drive 23700 7 0x00016 ∷ drive 23755 7 0x08016 ∷ drive 23755 0 0x00200 ∷ drive 23755 7 0x00000 ∷ drive 23755 0 0x04200 ∷ drive 23755 7 0x00117 ∷ drive 23810 7 0x08117 ∷ drive 23810 0 0x00200 ∷ drive 23810 7 0x00000 ∷ drive 23810 0 0x04200 ∷ drive 23810 7 0x00118 ∷ drive 23865 7 0x08118 ∷ drive 23865 0 0x00200 ∷ drive 23865 7 0x00000 ∷ drive 23865 0 0x04200 ∷ drive 23865 7 0x00019 ∷ drive 23920 7 0x08019 ∷ drive 23920 0 0x00200 ∷ drive 23920 7 0x00000 ∷ drive 23920 0 0x04200 ∷ drive 23920 7 0x0001a ∷ drive 23975 7 0x0801a ∷ drive 23975 0 0x00200 ∷ drive 23975 7 0x00000 ∷ drive 23975 0 0x04200 ∷ drive 23975 7 0x0011b ∷ drive 24030 7 0x0811b ∷ drive 24030 0 0x00200 ∷ drive 24030 7 0x00000 ∷ drive 24030 0 0x04200 ∷ drive 24030 7 0x0001c ∷ drive 24085 7 0x0801c ∷ drive 24085 0 0x00200 ∷ drive 24085 7 0x00000 ∷ drive 24085 0 0x04200 ∷ drive 24085 7 0x0011d ∷ drive 24140 7 0x0811d ∷ drive 24140 0 0x00200 ∷ drive 24140 7 0x00000 ∷ drive 24140 0 0x04200 ∷ drive 24140 7 0x0011e ∷ drive 24195 7 0x0811e ∷ drive 24195 0 0x00200 ∷ drive 24195 7 0x00000 ∷ drive 24195 0 0x04200 ∷ drive 24195 7 0x0001f ∷ drive 24250 7 0x0801f ∷ drive 24250 0 0x00200 ∷ drive 24250 7 0x00000 ∷ drive 24250 0 0x03a00 ∷ drive 25050 0 0x03a02 ∷ drive 25105 0 0x07a02 ∷ drive 25105 7 0x08000 ∷ drive 25105 0 0x03a04 ∷ drive 25105 7 0x00000 ∷ drive 25160 0 0x07a04 ∷ drive 25160 7 0x08000 ∷ drive 25160 0 0x03a00 ∷ drive 25160 7 0x00000 ∷ drive 25160 0 0x00000 ∷ drive 26360 0 0x00201 ∷ drive 28760 0 0x00601 ∷ drive 29960 0 0x01781 ∷ drive 30050 0 0x01581 ∷ drive 30450 7 0x00200 ∷ drive 30450 0 0x01781 ∷ drive 30540 0 0x03a80 ∷ drive 30540 7 0x00000 ∷ drive 30940 0 0x07a80 ∷ drive 30940 7 0x08000 ∷ drive 30940 0 0x03a20 ∷ drive 30940 7 0x00000 ∷ drive 30995 0 0x07a20 ∷ drive 30995 7 0x08000 ∷ drive 30995 0 0x03a01 ∷ drive 30995 7 0x00000 ∷ drive 31050 0 0x07a01 ∷ drive 31050 7 0x08000 ∷ drive 31050 0 0x03a00 ∷ drive 31050 7 0x00000 ∷ drive 31050 0 0x00200 ∷ drive 31450 0 0x04200 ∷ drive 31450 7 0x00020 ∷ drive 31505 7 0x08020 ∷ drive 31505 0 0x00200 ∷ drive 31505 7 0x00000 ∷ drive 31505 0 0x04200 ∷ drive 31505 7 0x00121 ∷ drive 31560 7 0x08121 ∷ drive 31560 0 0x00200 ∷ drive 31560 7 0x00000 ∷ drive 31560 0 0x04200 ∷ drive 31560 7 0x00122 ∷ drive 31615 7 0x08122 ∷ drive 31615 0 0x00200 ∷ drive 31615 7 0x00000 ∷ drive 31615 0 0x04200 ∷ drive 31615 7 0x00023 ∷ drive 31670 7 0x08023 ∷ drive 31670 0 0x00200 ∷ drive 31670 7 0x00000 ∷ drive 31670 0 0x04200 ∷ drive 31670 7 0x00124 ∷ drive 31725 7 0x08124 ∷ drive 31725 0 0x00200 ∷ drive 31725 7 0x00000 ∷ drive 31725 0 0x04200 ∷ drive 31725 7 0x00025 ∷ drive 31780 7 0x08025 ∷ drive 31780 0 0x00200 ∷ drive 31780 7 0x00000 ∷ drive 31780 0 0x04200 ∷ drive 31780 7 0x00026 ∷ drive 31835 7 0x08026 ∷ drive 31835 0 0x00200 ∷ drive 31835 7 0x00000 ∷ drive 31835 0 0x04200 ∷ drive 31835 7 0x00127 ∷ drive 31890 7 0x08127 ∷ drive 31890 0 0x00200 ∷ drive 31890 7 0x00000 ∷ drive 31890 0 0x04200 ∷ drive 31890 7 0x00128 ∷ drive 31945 7 0x08128 ∷ drive 31945 0 0x00200 ∷ drive 31945 7 0x00000 ∷ drive 31945 0 0x04200 ∷ drive 31945 7 0x00029 ∷ drive 32000 7 0x08029 ∷ drive 32000 0 0x00200 ∷ drive 32000 7 0x00000 ∷ drive 32000 0 0x04200 ∷ drive 32000 7 0x0002a ∷ drive 32055 7 0x0802a ∷ drive 32055 0 0x00200 ∷ drive 32055 7 0x00000 ∷ drive 32055 0 0x04200 ∷ drive 32055 7 0x0012b ∷ drive 32110 7 0x0812b ∷ drive 32110 0 0x00200 ∷ drive 32110 7 0x00000 ∷ drive 32110 0 0x04200 ∷ drive 32110 7 0x0002c ∷ drive 32165 7 0x0802c ∷ drive 32165 0 0x00200 ∷ drive 32165 7 0x00000 ∷ drive 32165 0 0x04200 ∷ drive 32165 7 0x0012d ∷ drive 32220 7 0x0812d ∷ drive 32220 0 0x00200 ∷ drive 32220 7 0x00000 ∷ drive 32220 0 0x04200 ∷ drive 32220 7 0x0012e ∷ drive 32275 7 0x0812e ∷ drive 32275 0 0x00200 ∷ drive 32275 7 0x00000 ∷ drive 32275 0 0x04200 ∷ drive 32275 7 0x0002f ∷ drive 32330 7 0x0802f ∷ drive 32330 0 0x00200 ∷ drive 32330 7 0x00000 ∷ drive 32330 0 0x03a00 ∷ drive 33130 0 0x03a02 ∷ drive 33185 0 0x07a02 ∷ drive 33185 7 0x08000 ∷ drive 33185 0 0x03a04 ∷ drive 33185 7 0x00000 ∷ drive 33240 0 0x07a04 ∷ drive 33240 7 0x08000 ∷ drive 33240 0 0x03a00 ∷ drive 33240 7 0x00000 ∷ drive 33240 0 0x00000 ∷ drive 34440 0 0x00201 ∷ drive 36840 0 0x00601 ∷ drive 38040 0 0x01781 ∷ drive 38130 0 0x01581 ∷ drive 38530 7 0x00200 ∷ drive 38530 0 0x01781 ∷ drive 38620 0 0x03a80 ∷ drive 38620 7 0x00000 ∷ drive 39020 0 0x07a80 ∷ drive 39020 7 0x08000 ∷ drive 39020 0 0x03a20 ∷ drive 39020 7 0x00000 ∷ drive 39075 0 0x07a20 ∷ drive 39075 7 0x08000 ∷ drive 39075 0 0x03a01 ∷ drive 39075 7 0x00000 ∷ drive 39130 0 0x07a01 ∷ drive 39130 7 0x08000 ∷ drive 39130 0 0x03a00 ∷ drive 39130 7 0x00000 ∷ drive 39130 0 0x00200 ∷ drive 39530 0 0x04200 ∷ drive 39530 7 0x00130 ∷ drive 39585 7 0x08130 ∷ drive 39585 0 0x00200 ∷ drive 39585 7 0x00000 ∷ drive 39585 0 0x04200 ∷ drive 39585 7 0x00031 ∷ drive 39640 7 0x08031 ∷ drive 39640 0 0x00200 ∷ drive 39640 7 0x00000 ∷ drive 39640 0 0x04200 ∷ drive 39640 7 0x00032 ∷ drive 39695 7 0x08032 ∷ drive 39695 0 0x00200 ∷ drive 39695 7 0x00000 ∷ drive 39695 0 0x04200 ∷ drive 39695 7 0x00133 ∷ drive 39750 7 0x08133 ∷ drive 39750 0 0x00200 ∷ drive 39750 7 0x00000 ∷ drive 39750 0 0x04200 ∷ drive 39750 7 0x00034 ∷ drive 39805 7 0x08034 ∷ drive 39805 0 0x00200 ∷ drive 39805 7 0x00000 ∷ drive 39805 0 0x04200 ∷ drive 39805 7 0x00135 ∷ drive 39860 7 0x08135 ∷ drive 39860 0 0x00200 ∷ drive 39860 7 0x00000 ∷ drive 39860 0 0x04200 ∷ drive 39860 7 0x00136 ∷ drive 39915 7 0x08136 ∷ drive 39915 0 0x00200 ∷ drive 39915 7 0x00000 ∷ drive 39915 0 0x04200 ∷ drive 39915 7 0x00037 ∷ drive 39970 7 0x08037 ∷ drive 39970 0 0x00200 ∷ drive 39970 7 0x00000 ∷ drive 39970 0 0x04200 ∷ drive 39970 7 0x00038 ∷ drive 40025 7 0x08038 ∷ drive 40025 0 0x00200 ∷ drive 40025 7 0x00000 ∷ drive 40025 0 0x04200 ∷ drive 40025 7 0x00139 ∷ drive 40080 7 0x08139 ∷ drive 40080 0 0x00200 ∷ drive 40080 7 0x00000 ∷ drive 40080 0 0x04200 ∷ drive 40080 7 0x0013a ∷ drive 40135 7 0x0813a ∷ drive 40135 0 0x00200 ∷ drive 40135 7 0x00000 ∷ drive 40135 0 0x04200 ∷ drive 40135 7 0x0003b ∷ drive 40190 7 0x0803b ∷ drive 40190 0 0x00200 ∷ drive 40190 7 0x00000 ∷ drive 40190 0 0x04200 ∷ drive 40190 7 0x0013c ∷ drive 40245 7 0x0813c ∷ drive 40245 0 0x00200 ∷ drive 40245 7 0x00000 ∷ drive 40245 0 0x04200 ∷ drive 40245 7 0x0003d ∷ drive 40300 7 0x0803d ∷ drive 40300 0 0x00200 ∷ drive 40300 7 0x00000 ∷ drive 40300 0 0x04200 ∷ drive 40300 7 0x0003e ∷ drive 40355 7 0x0803e ∷ drive 40355 0 0x00200 ∷ drive 40355 7 0x00000 ∷ drive 40355 0 0x04200 ∷ drive 40355 7 0x0013f ∷ drive 40410 7 0x0813f ∷ drive 40410 0 0x00200 ∷ drive 40410 7 0x00000 ∷ drive 40410 0 0x01a00 ∷ drive 41210 0 0x01b00 ∷ drive 41265 0 0x05b00 ∷ drive 41265 7 0x08000 ∷ drive 41265 0 0x01a00 ∷ drive 41265 7 0x00000 ∷ drive 41265 0 0x03b00 ∷ drive 41665 0 0x07b00 ∷ drive 41665 7 0x08000 ∷ drive 41665 0 0x03a00 ∷ drive 41665 7 0x00000 ∷ drive 41665 0 0x00000 ∷ []

abbrev struck_save_run_events : List Event
struck_save_run_events = events.Accept (command 1) ∷ events.Run (command 1) ∷ events.End (command 1) 0 ∷ []

struck_save_run_told : shown struck_save_run (story struck_save_run (reverse struck_save_run_rows)) (reverse struck_save_run_events) ≡ record { history = reverse struck_save_run_events; ends = Some (ended_good ([])) ∷ []; carried = true }
unfolding need_of sent_of ones union_below line_of form_out form_in
struck_save_run_told = refl

struck_save_run_struck : expected_strikes struck_save_run (reverse struck_save_run_rows) ≡ row_strikes struck_save_run_rows
unfolding need_of sent_of ones union_below line_of form_out form_in
struck_save_run_struck = refl

-- ---- two_aborts_run

abbrev two_aborts_run : ScenarioValue
two_aborts_run = record {
  version = 1;
  hosts = record { dev = 3; latency = 0; most = 1; retries = 5; period = 50; offset = 254; lag = 0; offers = true } ∷ [];
  targets = record { dev = 1; latency = 20; retries = 5; disc = policies.NoSave 2; pick = picks.First; seek = 100000; period = 25; offset = 16; begins = false } ∷ record { dev = 7; latency = 0; retries = 5; disc = policies.NoSave 2; pick = picks.First; seek = 0; period = 50; offset = 16; begins = false } ∷ record { dev = 5; latency = 10; retries = 2; disc = policies.Command; pick = picks.First; seek = 100000; period = 50; offset = 254; begins = false } ∷ record { dev = 4; latency = 0; retries = 1; disc = policies.Never; pick = picks.First; seek = 0; period = 25; offset = 16; begins = false } ∷ [];
  units = record { target = 1; unit = 5; blocks = 4; size = 32; depth = 2 } ∷ record { target = 7; unit = 0; blocks = 8; size = 32; depth = 4 } ∷ record { target = 7; unit = 1; blocks = 1; size = 32; depth = 2 } ∷ record { target = 5; unit = 1; blocks = 4; size = 32; depth = 4 } ∷ record { target = 4; unit = 7; blocks = 8; size = 32; depth = 4 } ∷ [];
  fills = record { target = 1; unit = 5; lba = 0; bytes = (0 ∷ 135 ∷ 0 ∷ 0 ∷ 168 ∷ 140 ∷ 105 ∷ 253 ∷ 144 ∷ 0 ∷ 0 ∷ 91 ∷ 50 ∷ 16 ∷ 0 ∷ 0 ∷ 0 ∷ 24 ∷ 99 ∷ 0 ∷ 151 ∷ 242 ∷ 176 ∷ 89 ∷ 0 ∷ 51 ∷ 0 ∷ 0 ∷ 1 ∷ 203 ∷ 52 ∷ 60 ∷ []) } ∷ record { target = 1; unit = 5; lba = 1; bytes = (255 ∷ 0 ∷ 0 ∷ 16 ∷ 0 ∷ 198 ∷ 167 ∷ 0 ∷ 142 ∷ 163 ∷ 73 ∷ 154 ∷ 164 ∷ 32 ∷ 0 ∷ 0 ∷ 0 ∷ 0 ∷ 245 ∷ 0 ∷ 203 ∷ 216 ∷ 0 ∷ 197 ∷ 0 ∷ 77 ∷ 0 ∷ 0 ∷ 8 ∷ 215 ∷ 0 ∷ 91 ∷ []) } ∷ record { target = 1; unit = 5; lba = 2; bytes = (0 ∷ 0 ∷ 147 ∷ 233 ∷ 154 ∷ 0 ∷ 0 ∷ 175 ∷ 0 ∷ 0 ∷ 89 ∷ 24 ∷ 86 ∷ 249 ∷ 0 ∷ 0 ∷ 141 ∷ 0 ∷ 8 ∷ 244 ∷ 0 ∷ 78 ∷ 185 ∷ 0 ∷ 0 ∷ 0 ∷ 19 ∷ 141 ∷ 170 ∷ 148 ∷ 213 ∷ 162 ∷ []) } ∷ record { target = 1; unit = 5; lba = 3; bytes = (167 ∷ 0 ∷ 34 ∷ 188 ∷ 0 ∷ 48 ∷ 85 ∷ 236 ∷ 204 ∷ 105 ∷ 0 ∷ 247 ∷ 128 ∷ 205 ∷ 110 ∷ 0 ∷ 196 ∷ 0 ∷ 78 ∷ 222 ∷ 0 ∷ 0 ∷ 0 ∷ 36 ∷ 119 ∷ 0 ∷ 0 ∷ 41 ∷ 0 ∷ 0 ∷ 0 ∷ 190 ∷ []) } ∷ record { target = 7; unit = 0; lba = 0; bytes = (92 ∷ 12 ∷ 249 ∷ 53 ∷ 0 ∷ 235 ∷ 0 ∷ 223 ∷ 114 ∷ 0 ∷ 0 ∷ 3 ∷ 117 ∷ 223 ∷ 48 ∷ 0 ∷ 32 ∷ 24 ∷ 200 ∷ 176 ∷ 0 ∷ 0 ∷ 244 ∷ 0 ∷ 61 ∷ 81 ∷ 0 ∷ 62 ∷ 0 ∷ 0 ∷ 0 ∷ 230 ∷ []) } ∷ record { target = 7; unit = 0; lba = 3; bytes = (135 ∷ 94 ∷ 0 ∷ 0 ∷ 0 ∷ 0 ∷ 143 ∷ 242 ∷ 106 ∷ 43 ∷ 194 ∷ 220 ∷ 0 ∷ 0 ∷ 0 ∷ 0 ∷ 102 ∷ 0 ∷ 97 ∷ 58 ∷ 121 ∷ 0 ∷ 0 ∷ 238 ∷ 0 ∷ 116 ∷ 51 ∷ 59 ∷ 44 ∷ 217 ∷ 160 ∷ 28 ∷ []) } ∷ record { target = 7; unit = 0; lba = 4; bytes = (113 ∷ 72 ∷ 21 ∷ 34 ∷ 0 ∷ 44 ∷ 154 ∷ 137 ∷ 246 ∷ 244 ∷ 0 ∷ 155 ∷ 132 ∷ 0 ∷ 200 ∷ 134 ∷ 82 ∷ 165 ∷ 0 ∷ 0 ∷ 196 ∷ 24 ∷ 0 ∷ 192 ∷ 159 ∷ 0 ∷ 0 ∷ 36 ∷ 184 ∷ 234 ∷ 55 ∷ 0 ∷ []) } ∷ record { target = 7; unit = 0; lba = 5; bytes = (0 ∷ 0 ∷ 98 ∷ 0 ∷ 174 ∷ 188 ∷ 0 ∷ 243 ∷ 0 ∷ 0 ∷ 0 ∷ 0 ∷ 107 ∷ 33 ∷ 0 ∷ 12 ∷ 236 ∷ 0 ∷ 6 ∷ 93 ∷ 195 ∷ 70 ∷ 112 ∷ 73 ∷ 242 ∷ 2 ∷ 51 ∷ 229 ∷ 160 ∷ 0 ∷ 33 ∷ 68 ∷ []) } ∷ record { target = 7; unit = 0; lba = 6; bytes = (91 ∷ 0 ∷ 145 ∷ 0 ∷ 0 ∷ 0 ∷ 56 ∷ 0 ∷ 0 ∷ 136 ∷ 113 ∷ 22 ∷ 0 ∷ 69 ∷ 0 ∷ 0 ∷ 0 ∷ 32 ∷ 167 ∷ 0 ∷ 34 ∷ 0 ∷ 132 ∷ 16 ∷ 0 ∷ 45 ∷ 0 ∷ 123 ∷ 0 ∷ 22 ∷ 0 ∷ 45 ∷ []) } ∷ record { target = 5; unit = 1; lba = 3; bytes = (0 ∷ 83 ∷ 0 ∷ 0 ∷ 0 ∷ 114 ∷ 226 ∷ 40 ∷ 0 ∷ 48 ∷ 111 ∷ 0 ∷ 233 ∷ 91 ∷ 35 ∷ 53 ∷ 239 ∷ 0 ∷ 0 ∷ 0 ∷ 0 ∷ 189 ∷ 0 ∷ 105 ∷ 191 ∷ 194 ∷ 0 ∷ 0 ∷ 146 ∷ 68 ∷ 112 ∷ 0 ∷ []) } ∷ record { target = 4; unit = 7; lba = 0; bytes = (0 ∷ 0 ∷ 0 ∷ 0 ∷ 85 ∷ 136 ∷ 163 ∷ 96 ∷ 0 ∷ 249 ∷ 249 ∷ 52 ∷ 86 ∷ 0 ∷ 179 ∷ 214 ∷ 201 ∷ 0 ∷ 0 ∷ 0 ∷ 240 ∷ 36 ∷ 61 ∷ 0 ∷ 0 ∷ 230 ∷ 0 ∷ 187 ∷ 86 ∷ 0 ∷ 204 ∷ 7 ∷ []) } ∷ record { target = 4; unit = 7; lba = 1; bytes = (0 ∷ 63 ∷ 91 ∷ 16 ∷ 241 ∷ 0 ∷ 140 ∷ 132 ∷ 76 ∷ 0 ∷ 0 ∷ 8 ∷ 0 ∷ 222 ∷ 0 ∷ 0 ∷ 125 ∷ 0 ∷ 252 ∷ 228 ∷ 0 ∷ 0 ∷ 248 ∷ 50 ∷ 0 ∷ 0 ∷ 140 ∷ 114 ∷ 42 ∷ 0 ∷ 218 ∷ 30 ∷ []) } ∷ record { target = 4; unit = 7; lba = 2; bytes = (155 ∷ 91 ∷ 0 ∷ 0 ∷ 229 ∷ 241 ∷ 170 ∷ 7 ∷ 142 ∷ 0 ∷ 177 ∷ 0 ∷ 0 ∷ 134 ∷ 226 ∷ 60 ∷ 0 ∷ 17 ∷ 0 ∷ 54 ∷ 0 ∷ 35 ∷ 75 ∷ 69 ∷ 0 ∷ 0 ∷ 62 ∷ 46 ∷ 114 ∷ 0 ∷ 0 ∷ 0 ∷ []) } ∷ record { target = 4; unit = 7; lba = 3; bytes = (60 ∷ 196 ∷ 109 ∷ 40 ∷ 0 ∷ 122 ∷ 68 ∷ 0 ∷ 29 ∷ 178 ∷ 0 ∷ 0 ∷ 0 ∷ 44 ∷ 0 ∷ 0 ∷ 244 ∷ 155 ∷ 167 ∷ 6 ∷ 200 ∷ 88 ∷ 0 ∷ 118 ∷ 0 ∷ 230 ∷ 215 ∷ 65 ∷ 0 ∷ 0 ∷ 231 ∷ 117 ∷ []) } ∷ record { target = 4; unit = 7; lba = 5; bytes = (154 ∷ 58 ∷ 0 ∷ 117 ∷ 0 ∷ 0 ∷ 139 ∷ 205 ∷ 0 ∷ 0 ∷ 0 ∷ 163 ∷ 180 ∷ 67 ∷ 41 ∷ 0 ∷ 0 ∷ 30 ∷ 45 ∷ 69 ∷ 158 ∷ 232 ∷ 0 ∷ 150 ∷ 251 ∷ 184 ∷ 0 ∷ 23 ∷ 202 ∷ 135 ∷ 42 ∷ 19 ∷ []) } ∷ record { target = 4; unit = 7; lba = 6; bytes = (170 ∷ 0 ∷ 0 ∷ 20 ∷ 90 ∷ 177 ∷ 94 ∷ 139 ∷ 92 ∷ 223 ∷ 0 ∷ 0 ∷ 0 ∷ 144 ∷ 37 ∷ 92 ∷ 74 ∷ 0 ∷ 166 ∷ 0 ∷ 137 ∷ 103 ∷ 0 ∷ 66 ∷ 215 ∷ 249 ∷ 216 ∷ 0 ∷ 0 ∷ 0 ∷ 0 ∷ 124 ∷ []) } ∷ [];
  tapes = [];
  loads = [];
  commands = record { host = 3; target = 7; unit = 0; at = 89108; tag = tags.Simple 255; cdb = (8 ∷ 2 ∷ 0 ∷ 0 ∷ 1 ∷ 0 ∷ []); payload = payloads.Nothing } ∷ [];
  aborts = record { host = 3; target = 1; unit = 2; at = 103123; what = (aborts.Tag 2) } ∷ record { host = 3; target = 4; unit = 7; at = 111568; what = aborts.Device } ∷ [];
  resets = [];
  faults = record { at = 112768; bit = 5 } ∷ record { at = 113368; bit = 7 } ∷ record { at = 93698; bit = 5 } ∷ [];
}

abbrev pub two_aborts_run_rows : List Row
two_aborts_run_rows = drive 89108 3 0x00208 ∷ drive 91508 3 0x00608 ∷ drive 92708 3 0x10788 ∷ drive 92798 3 0x10588 ∷ drive 93198 7 0x00200 ∷ drive 93288 3 0x10000 ∷ drive 93288 7 0x02a00 ∷ drive 93688 7 0x06a00 ∷ drive 93688 3 0x101c0 ∷ drive 93743 3 0x181c0 ∷ strike 93743 7 5 ∷ drive 93743 7 0x02a00 ∷ drive 93743 3 0x10000 ∷ drive 93743 7 0x06a00 ∷ drive 93743 3 0x10020 ∷ drive 93798 3 0x18020 ∷ drive 93798 7 0x02a00 ∷ drive 93798 3 0x10000 ∷ drive 93798 7 0x06a00 ∷ drive 93798 3 0x101ff ∷ drive 93853 3 0x181ff ∷ drive 93853 7 0x02a00 ∷ drive 93853 3 0x10000 ∷ drive 93853 7 0x06a00 ∷ drive 93853 3 0x10001 ∷ drive 93908 3 0x18001 ∷ drive 93908 7 0x02a00 ∷ drive 93908 3 0x10000 ∷ drive 93908 7 0x06a00 ∷ drive 93908 3 0x10103 ∷ drive 93963 3 0x18103 ∷ drive 93963 7 0x02a00 ∷ drive 93963 3 0x10000 ∷ drive 93963 7 0x06a00 ∷ drive 93963 3 0x10001 ∷ drive 94018 3 0x18001 ∷ drive 94018 7 0x02a00 ∷ drive 94018 3 0x10000 ∷ drive 94018 7 0x06a00 ∷ drive 94018 3 0x10032 ∷ drive 94073 3 0x18032 ∷ drive 94073 7 0x02a00 ∷ drive 94073 3 0x10000 ∷ drive 94073 7 0x06a00 ∷ drive 94073 3 0x000fe ∷ drive 94163 3 0x080fe ∷ drive 94163 7 0x02a00 ∷ drive 94163 3 0x00000 ∷ drive 94163 7 0x06a00 ∷ drive 94163 3 0x101c0 ∷ drive 94253 3 0x181c0 ∷ drive 94253 7 0x02a00 ∷ drive 94253 3 0x10000 ∷ drive 94253 7 0x06a00 ∷ drive 94253 3 0x10020 ∷ drive 94308 3 0x18020 ∷ drive 94308 7 0x02a00 ∷ drive 94308 3 0x10000 ∷ drive 94308 7 0x06a00 ∷ drive 94308 3 0x101ff ∷ drive 94363 3 0x181ff ∷ drive 94363 7 0x02a00 ∷ drive 94363 3 0x10000 ∷ drive 94363 7 0x06a00 ∷ drive 94363 3 0x10001 ∷ drive 94418 3 0x18001 ∷ drive 94418 7 0x02a00 ∷ drive 94418 3 0x10000 ∷ drive 94418 7 0x06a00 ∷ drive 94418 3 0x10103 ∷ drive 94473 3 0x18103 ∷ drive 94473 7 0x02a00 ∷ drive 94473 3 0x10000 ∷ drive 94473 7 0x06a00 ∷ drive 94473 3 0x10001 ∷ drive 94528 3 0x18001 ∷ drive 94528 7 0x02a00 ∷ drive 94528 3 0x10000 ∷ drive 94528 7 0x06a00 ∷ drive 94528 3 0x10032 ∷ drive 94583 3 0x18032 ∷ drive 94583 7 0x02a00 ∷ drive 94583 3 0x10000 ∷ drive 94583 7 0x06a00 ∷ drive 94583 3 0x000fe ∷ drive 94673 3 0x080fe ∷ drive 94673 7 0x02a00 ∷ drive 94673 3 0x00000 ∷ drive 94673 7 0x03a00 ∷ drive 95473 7 0x03a01 ∷ drive 95528 7 0x07a01 ∷ drive 95528 3 0x08000 ∷ drive 95528 7 0x03b03 ∷ drive 95528 3 0x00000 ∷ drive 95583 7 0x07b03 ∷ drive 95583 3 0x08000 ∷ drive 95583 7 0x03a01 ∷ drive 95583 3 0x00000 ∷ drive 95638 7 0x07a01 ∷ drive 95638 3 0x08000 ∷ drive 95638 7 0x03a32 ∷ drive 95638 3 0x00000 ∷ drive 95693 7 0x07a32 ∷ drive 95693 3 0x08000 ∷ drive 95693 7 0x03a10 ∷ drive 95693 3 0x00000 ∷ drive 95748 7 0x07a10 ∷ drive 95748 3 0x08000 ∷ drive 95748 7 0x03a00 ∷ drive 95748 3 0x00000 ∷ drive 95748 7 0x00a00 ∷ drive 96148 7 0x04a00 ∷ drive 96148 3 0x00008 ∷ drive 96203 3 0x08008 ∷ drive 96203 7 0x00a00 ∷ drive 96203 3 0x00000 ∷ drive 96203 7 0x04a00 ∷ drive 96203 3 0x00002 ∷ drive 96258 3 0x08002 ∷ drive 96258 7 0x00a00 ∷ drive 96258 3 0x00000 ∷ drive 96258 7 0x04a00 ∷ drive 96258 3 0x00100 ∷ drive 96313 3 0x08100 ∷ drive 96313 7 0x00a00 ∷ drive 96313 3 0x00000 ∷ drive 96313 7 0x04a00 ∷ drive 96313 3 0x00100 ∷ drive 96368 3 0x08100 ∷ drive 96368 7 0x00a00 ∷ drive 96368 3 0x00000 ∷ drive 96368 7 0x04a00 ∷ drive 96368 3 0x00001 ∷ drive 96423 3 0x08001 ∷ drive 96423 7 0x00a00 ∷ drive 96423 3 0x00000 ∷ drive 96423 7 0x04a00 ∷ drive 96423 3 0x00100 ∷ drive 96478 3 0x08100 ∷ drive 96478 7 0x00a00 ∷ drive 96478 3 0x00000 ∷ drive 96478 7 0x03a00 ∷ drive 97278 7 0x03a04 ∷ drive 97333 7 0x07a04 ∷ drive 97333 3 0x08000 ∷ drive 97333 7 0x03a00 ∷ drive 97333 3 0x00000 ∷ drive 97333 7 0x00000 ∷ drive 98533 7 0x00280 ∷ drive 100933 7 0x00680 ∷ drive 102133 7 0x01788 ∷ drive 102223 7 0x01588 ∷ drive 102623 3 0x00200 ∷ drive 102623 7 0x01788 ∷ drive 102713 7 0x03a80 ∷ drive 102713 3 0x00000 ∷ drive 103113 7 0x07a80 ∷ drive 103113 3 0x08000 ∷ drive 103113 7 0x03a20 ∷ drive 103113 3 0x00000 ∷ drive 103168 7 0x07a20 ∷ drive 103168 3 0x08000 ∷ drive 103168 7 0x03bff ∷ drive 103168 3 0x00000 ∷ drive 103223 7 0x07bff ∷ drive 103223 3 0x08000 ∷ drive 103223 7 0x03a00 ∷ drive 103223 3 0x00000 ∷ drive 103223 7 0x01a02 ∷ drive 103623 7 0x05a02 ∷ drive 103623 3 0x08000 ∷ drive 103623 7 0x01a00 ∷ drive 103623 3 0x00000 ∷ drive 103623 7 0x03b00 ∷ drive 104023 7 0x07b00 ∷ drive 104023 3 0x08000 ∷ drive 104023 7 0x03a00 ∷ drive 104023 3 0x00000 ∷ drive 104023 7 0x00000 ∷ drive 105223 3 0x00208 ∷ drive 107623 3 0x00608 ∷ drive 108823 3 0x1070a ∷ drive 108913 3 0x1050a ∷ drive 109333 1 0x00200 ∷ drive 109423 3 0x10000 ∷ drive 109443 1 0x02a00 ∷ drive 109863 1 0x06a00 ∷ drive 109863 3 0x10182 ∷ drive 109918 3 0x18182 ∷ drive 109938 1 0x02a00 ∷ drive 109938 3 0x10000 ∷ drive 109958 1 0x06a00 ∷ drive 109958 3 0x10020 ∷ drive 110013 3 0x18020 ∷ drive 110033 1 0x02a00 ∷ drive 110033 3 0x10000 ∷ drive 110053 1 0x06a00 ∷ drive 110053 3 0x10002 ∷ drive 110108 3 0x18002 ∷ drive 110128 1 0x02a00 ∷ drive 110128 3 0x10000 ∷ drive 110148 1 0x06a00 ∷ drive 110148 3 0x0000d ∷ drive 110238 3 0x0800d ∷ drive 110258 1 0x02a00 ∷ drive 110258 3 0x00000 ∷ drive 110278 1 0x00000 ∷ drive 111478 3 0x00208 ∷ drive 113878 3 0x00608 ∷ drive 115078 3 0x10788 ∷ drive 115168 3 0x10588 ∷ strike 115568 7 5 ∷ drive 250115168 3 0x10400 ∷ drive 250315258 3 0x00000 ∷ drive 250316458 3 0x00208 ∷ drive 250318858 3 0x00608 ∷ drive 250320058 3 0x10718 ∷ drive 250320148 3 0x10518 ∷ strike 250320548 4 7 ∷ drive 500320148 3 0x10400 ∷ drive 500520238 3 0x00000 ∷ drive 500521438 3 0x00208 ∷ drive 500523838 3 0x00608 ∷ drive 500525038 3 0x10718 ∷ drive 500525128 3 0x10518 ∷ drive 500525528 4 0x00200 ∷ drive 500525618 3 0x10000 ∷ drive 500525618 4 0x02a00 ∷ drive 500526018 4 0x06a00 ∷ drive 500526018 3 0x10187 ∷ drive 500526073 3 0x18187 ∷ drive 500526073 4 0x02a00 ∷ drive 500526073 3 0x10000 ∷ drive 500526073 4 0x06a00 ∷ drive 500526073 3 0x0010c ∷ drive 500526163 3 0x0810c ∷ drive 500526163 4 0x02a00 ∷ drive 500526163 3 0x00000 ∷ drive 500526163 4 0x00000 ∷ drive 500527363 3 0x00208 ∷ drive 500529763 3 0x00608 ∷ drive 500530963 3 0x10788 ∷ drive 500531053 3 0x10588 ∷ drive 500531453 7 0x00200 ∷ drive 500531543 3 0x10000 ∷ drive 500531543 7 0x02a00 ∷ drive 500531943 7 0x06a00 ∷ drive 500531943 3 0x00080 ∷ drive 500532033 3 0x08080 ∷ drive 500532033 7 0x02a00 ∷ drive 500532033 3 0x00000 ∷ drive 500532033 7 0x00a00 ∷ drive 500532433 7 0x04a00 ∷ drive 500532433 3 0x00103 ∷ drive 500532488 3 0x08103 ∷ drive 500532488 7 0x00a00 ∷ drive 500532488 3 0x00000 ∷ drive 500532488 7 0x04a00 ∷ drive 500532488 3 0x00100 ∷ drive 500532543 3 0x08100 ∷ drive 500532543 7 0x00a00 ∷ drive 500532543 3 0x00000 ∷ drive 500532543 7 0x04a00 ∷ drive 500532543 3 0x00100 ∷ drive 500532598 3 0x08100 ∷ drive 500532598 7 0x00a00 ∷ drive 500532598 3 0x00000 ∷ drive 500532598 7 0x04a00 ∷ drive 500532598 3 0x00100 ∷ drive 500532653 3 0x08100 ∷ drive 500532653 7 0x00a00 ∷ drive 500532653 3 0x00000 ∷ drive 500532653 7 0x04a00 ∷ drive 500532653 3 0x00112 ∷ drive 500532708 3 0x08112 ∷ drive 500532708 7 0x00a00 ∷ drive 500532708 3 0x00000 ∷ drive 500532708 7 0x04a00 ∷ drive 500532708 3 0x00100 ∷ drive 500532763 3 0x08100 ∷ drive 500532763 7 0x00a00 ∷ drive 500532763 3 0x00000 ∷ drive 500532763 7 0x01200 ∷ drive 500533563 7 0x01270 ∷ drive 500533618 7 0x05270 ∷ drive 500533618 3 0x08000 ∷ drive 500533708 7 0x01270 ∷ drive 500533708 3 0x00000 ∷ drive 500533718 7 0x01300 ∷ drive 500533818 7 0x05300 ∷ drive 500533818 3 0x08000 ∷ drive 500533908 7 0x01300 ∷ drive 500533908 3 0x00000 ∷ drive 500533918 7 0x01305 ∷ drive 500534018 7 0x05305 ∷ drive 500534018 3 0x08000 ∷ drive 500534108 7 0x01305 ∷ drive 500534108 3 0x00000 ∷ drive 500534118 7 0x01300 ∷ drive 500534218 7 0x05300 ∷ drive 500534218 3 0x08000 ∷ drive 500534308 7 0x01300 ∷ drive 500534308 3 0x00000 ∷ drive 500534418 7 0x05300 ∷ drive 500534418 3 0x08000 ∷ drive 500534508 7 0x01300 ∷ drive 500534508 3 0x00000 ∷ drive 500534618 7 0x05300 ∷ drive 500534618 3 0x08000 ∷ drive 500534708 7 0x01300 ∷ drive 500534708 3 0x00000 ∷ drive 500534818 7 0x05300 ∷ drive 500534818 3 0x08000 ∷ drive 500534908 7 0x01300 ∷ drive 500534908 3 0x00000 ∷ drive 500534918 7 0x0130a ∷ drive 500535018 7 0x0530a ∷ drive 500535018 3 0x08000 ∷ drive 500535108 7 0x0130a ∷ drive 500535108 3 0x00000 ∷ drive 500535118 7 0x01300 ∷ drive 500535218 7 0x05300 ∷ drive 500535218 3 0x08000 ∷ drive 500535308 7 0x01300 ∷ drive 500535308 3 0x00000 ∷ drive 500535418 7 0x05300 ∷ drive 500535418 3 0x08000 ∷ drive 500535508 7 0x01300 ∷ drive 500535508 3 0x00000 ∷ drive 500535618 7 0x05300 ∷ drive 500535618 3 0x08000 ∷ drive 500535708 7 0x01300 ∷ drive 500535708 3 0x00000 ∷ drive 500535818 7 0x05300 ∷ drive 500535818 3 0x08000 ∷ drive 500535908 7 0x01300 ∷ drive 500535908 3 0x00000 ∷ drive 500535918 7 0x01321 ∷ drive 500536018 7 0x05321 ∷ drive 500536018 3 0x08000 ∷ drive 500536108 7 0x01321 ∷ drive 500536108 3 0x00000 ∷ drive 500536118 7 0x01300 ∷ drive 500536218 7 0x05300 ∷ drive 500536218 3 0x08000 ∷ drive 500536308 7 0x01300 ∷ drive 500536308 3 0x00000 ∷ drive 500536418 7 0x05300 ∷ drive 500536418 3 0x08000 ∷ drive 500536508 7 0x01300 ∷ drive 500536508 3 0x00000 ∷ drive 500536618 7 0x05300 ∷ drive 500536618 3 0x08000 ∷ drive 500536708 7 0x01300 ∷ drive 500536708 3 0x00000 ∷ drive 500536818 7 0x05300 ∷ drive 500536818 3 0x08000 ∷ drive 500536908 7 0x01300 ∷ drive 500536908 3 0x00000 ∷ drive 500537018 7 0x05300 ∷ drive 500537018 3 0x08000 ∷ drive 500537108 7 0x01300 ∷ drive 500537108 3 0x00000 ∷ drive 500537118 7 0x01200 ∷ drive 500537118 7 0x01b00 ∷ drive 500537518 7 0x05b00 ∷ drive 500537518 3 0x08000 ∷ drive 500537518 7 0x01a00 ∷ drive 500537518 3 0x00000 ∷ drive 500537518 7 0x03b00 ∷ drive 500537918 7 0x07b00 ∷ drive 500537918 3 0x08000 ∷ drive 500537918 7 0x03a00 ∷ drive 500537918 3 0x00000 ∷ drive 500537918 7 0x00000 ∷ []

abbrev two_aborts_run_events : List Event
two_aborts_run_events = events.Accept (command 1) ∷ events.Run (command 1) ∷ events.End (command 1) 2 ∷ events.Aborted 3 1 2 (aborts.Tag 2) ∷ events.Aborted 3 4 7 aborts.Device ∷ events.Accept (sense 1) ∷ events.Run (sense 1) ∷ events.End (sense 1) 0 ∷ []

two_aborts_run_told : shown two_aborts_run (story two_aborts_run (reverse two_aborts_run_rows)) (reverse two_aborts_run_events) ≡ record { history = reverse two_aborts_run_events; ends = Some (ended_check (Some (sense_of 5 33 0))) ∷ []; carried = true }
unfolding need_of sent_of ones union_below line_of form_out form_in
two_aborts_run_told = refl

two_aborts_run_struck : expected_strikes two_aborts_run (reverse two_aborts_run_rows) ≡ row_strikes two_aborts_run_rows
unfolding need_of sent_of ones union_below line_of form_out form_in
two_aborts_run_struck = refl

-- ---- unanswered_by_struck_ids_run

abbrev unanswered_by_struck_ids_run : ScenarioValue
unanswered_by_struck_ids_run = record {
  version = 1;
  hosts = record { dev = 7; latency = 0; most = 1; retries = 9; period = 0; offset = 0; lag = 0; offers = true } ∷ [];
  targets = record { dev = 0; latency = 0; retries = 2; disc = policies.Never; pick = picks.First; seek = 0; period = 0; offset = 0; begins = false } ∷ [];
  units = record { target = 0; unit = 0; blocks = 1; size = 16; depth = 1 } ∷ [];
  fills = record { target = 0; unit = 0; lba = 0; bytes = (0 ∷ 1 ∷ 2 ∷ 3 ∷ 4 ∷ 5 ∷ 6 ∷ 7 ∷ 8 ∷ 9 ∷ 10 ∷ 11 ∷ 12 ∷ 13 ∷ 14 ∷ 15 ∷ []) } ∷ [];
  tapes = [];
  loads = [];
  commands = record { host = 7; target = 0; unit = 0; at = 0; tag = tags.Untagged; cdb = (8 ∷ 0 ∷ 0 ∷ 0 ∷ 1 ∷ 0 ∷ []); payload = payloads.Nothing } ∷ [];
  aborts = [];
  resets = [];
  faults = record { at = 5290; bit = 0 } ∷ record { at = 5290; bit = 1 } ∷ record { at = 5290; bit = 2 } ∷ record { at = 5290; bit = 3 } ∷ record { at = 5290; bit = 4 } ∷ record { at = 5290; bit = 5 } ∷ record { at = 5290; bit = 6 } ∷ record { at = 5290; bit = 7 } ∷ record { at = 5290; bit = 8 } ∷ [];
}

abbrev pub unanswered_by_struck_ids_run_rows : List Row
unanswered_by_struck_ids_run_rows = drive 1200 7 0x00280 ∷ drive 3600 7 0x00680 ∷ drive 4800 7 0x10781 ∷ drive 4890 7 0x10581 ∷ strike 5290 0 0 ∷ drive 250004890 7 0x10400 ∷ drive 250204980 7 0x00000 ∷ drive 250206180 7 0x00280 ∷ drive 250208580 7 0x00680 ∷ drive 250209780 7 0x10781 ∷ drive 250209870 7 0x10581 ∷ strike 250210270 0 1 ∷ drive 500209870 7 0x10400 ∷ drive 500409960 7 0x00000 ∷ drive 500411160 7 0x00280 ∷ drive 500413560 7 0x00680 ∷ drive 500414760 7 0x10781 ∷ drive 500414850 7 0x10581 ∷ strike 500415250 0 2 ∷ drive 750414850 7 0x10400 ∷ drive 750614940 7 0x00000 ∷ drive 750616140 7 0x00280 ∷ drive 750618540 7 0x00680 ∷ drive 750619740 7 0x10781 ∷ drive 750619830 7 0x10581 ∷ strike 750620230 0 3 ∷ drive 1000619830 7 0x10400 ∷ drive 1000819920 7 0x00000 ∷ drive 1000821120 7 0x00280 ∷ drive 1000823520 7 0x00680 ∷ drive 1000824720 7 0x10781 ∷ drive 1000824810 7 0x10581 ∷ strike 1000825210 0 4 ∷ drive 1250824810 7 0x10400 ∷ drive 1251024900 7 0x00000 ∷ drive 1251026100 7 0x00280 ∷ drive 1251028500 7 0x00680 ∷ drive 1251029700 7 0x10781 ∷ drive 1251029790 7 0x10581 ∷ strike 1251030190 0 5 ∷ drive 1501029790 7 0x10400 ∷ drive 1501229880 7 0x00000 ∷ drive 1501231080 7 0x00280 ∷ drive 1501233480 7 0x00680 ∷ drive 1501234680 7 0x10781 ∷ drive 1501234770 7 0x10581 ∷ strike 1501235170 0 6 ∷ drive 1751234770 7 0x10400 ∷ drive 1751434860 7 0x00000 ∷ drive 1751436060 7 0x00280 ∷ drive 1751438460 7 0x00680 ∷ drive 1751439660 7 0x10781 ∷ drive 1751439750 7 0x10581 ∷ strike 1751440150 0 7 ∷ drive 2001439750 7 0x10400 ∷ drive 2001639840 7 0x00000 ∷ drive 2001641040 7 0x00280 ∷ drive 2001643440 7 0x00680 ∷ drive 2001644640 7 0x10781 ∷ drive 2001644730 7 0x10581 ∷ strike 2001645130 0 8 ∷ drive 2251644730 7 0x10400 ∷ drive 2251844820 7 0x00000 ∷ drive 2251846020 7 0x00280 ∷ drive 2251848420 7 0x00680 ∷ drive 2251849620 7 0x10781 ∷ drive 2251849710 7 0x10581 ∷ drive 2251850110 0 0x00200 ∷ drive 2251850200 7 0x10000 ∷ drive 2251850200 0 0x02a00 ∷ drive 2251850600 0 0x06a00 ∷ drive 2251850600 7 0x001c0 ∷ drive 2251850690 7 0x081c0 ∷ drive 2251850690 0 0x02a00 ∷ drive 2251850690 7 0x00000 ∷ drive 2251850690 0 0x00a00 ∷ drive 2251851090 0 0x04a00 ∷ drive 2251851090 7 0x00008 ∷ drive 2251851145 7 0x08008 ∷ drive 2251851145 0 0x00a00 ∷ drive 2251851145 7 0x00000 ∷ drive 2251851145 0 0x04a00 ∷ drive 2251851145 7 0x00100 ∷ drive 2251851200 7 0x08100 ∷ drive 2251851200 0 0x00a00 ∷ drive 2251851200 7 0x00000 ∷ drive 2251851200 0 0x04a00 ∷ drive 2251851200 7 0x00100 ∷ drive 2251851255 7 0x08100 ∷ drive 2251851255 0 0x00a00 ∷ drive 2251851255 7 0x00000 ∷ drive 2251851255 0 0x04a00 ∷ drive 2251851255 7 0x00100 ∷ drive 2251851310 7 0x08100 ∷ drive 2251851310 0 0x00a00 ∷ drive 2251851310 7 0x00000 ∷ drive 2251851310 0 0x04a00 ∷ drive 2251851310 7 0x00001 ∷ drive 2251851365 7 0x08001 ∷ drive 2251851365 0 0x00a00 ∷ drive 2251851365 7 0x00000 ∷ drive 2251851365 0 0x04a00 ∷ drive 2251851365 7 0x00100 ∷ drive 2251851420 7 0x08100 ∷ drive 2251851420 0 0x00a00 ∷ drive 2251851420 7 0x00000 ∷ drive 2251851420 0 0x01200 ∷ drive 2251852220 0 0x01300 ∷ drive 2251852275 0 0x05300 ∷ drive 2251852275 7 0x08000 ∷ drive 2251852275 0 0x01201 ∷ drive 2251852275 7 0x00000 ∷ drive 2251852330 0 0x05201 ∷ drive 2251852330 7 0x08000 ∷ drive 2251852330 0 0x01202 ∷ drive 2251852330 7 0x00000 ∷ drive 2251852385 0 0x05202 ∷ drive 2251852385 7 0x08000 ∷ drive 2251852385 0 0x01303 ∷ drive 2251852385 7 0x00000 ∷ drive 2251852440 0 0x05303 ∷ drive 2251852440 7 0x08000 ∷ drive 2251852440 0 0x01204 ∷ drive 2251852440 7 0x00000 ∷ drive 2251852495 0 0x05204 ∷ drive 2251852495 7 0x08000 ∷ drive 2251852495 0 0x01305 ∷ drive 2251852495 7 0x00000 ∷ drive 2251852550 0 0x05305 ∷ drive 2251852550 7 0x08000 ∷ drive 2251852550 0 0x01306 ∷ drive 2251852550 7 0x00000 ∷ drive 2251852605 0 0x05306 ∷ drive 2251852605 7 0x08000 ∷ drive 2251852605 0 0x01207 ∷ drive 2251852605 7 0x00000 ∷ drive 2251852660 0 0x05207 ∷ drive 2251852660 7 0x08000 ∷ drive 2251852660 0 0x01208 ∷ drive 2251852660 7 0x00000 ∷ drive 2251852715 0 0x05208 ∷ drive 2251852715 7 0x08000 ∷ drive 2251852715 0 0x01309 ∷ drive 2251852715 7 0x00000 ∷ drive 2251852770 0 0x05309 ∷ drive 2251852770 7 0x08000 ∷ drive 2251852770 0 0x0130a ∷ drive 2251852770 7 0x00000 ∷ drive 2251852825 0 0x0530a ∷ drive 2251852825 7 0x08000 ∷ drive 2251852825 0 0x0120b ∷ drive 2251852825 7 0x00000 ∷ drive 2251852880 0 0x0520b ∷ drive 2251852880 7 0x08000 ∷ drive 2251852880 0 0x0130c ∷ drive 2251852880 7 0x00000 ∷ drive 2251852935 0 0x0530c ∷ drive 2251852935 7 0x08000 ∷ drive 2251852935 0 0x0120d ∷ drive 2251852935 7 0x00000 ∷ drive 2251852990 0 0x0520d ∷ drive 2251852990 7 0x08000 ∷ drive 2251852990 0 0x0120e ∷ drive 2251852990 7 0x00000 ∷ drive 2251853045 0 0x0520e ∷ drive 2251853045 7 0x08000 ∷ drive 2251853045 0 0x0130f ∷ drive 2251853045 7 0x00000 ∷ drive 2251853100 0 0x0530f ∷ drive 2251853100 7 0x08000 ∷ drive 2251853100 0 0x01200 ∷ drive 2251853100 7 0x00000 ∷ drive 2251853100 0 0x01b00 ∷ drive 2251853500 0 0x05b00 ∷ drive 2251853500 7 0x08000 ∷ drive 2251853500 0 0x01a00 ∷ drive 2251853500 7 0x00000 ∷ drive 2251853500 0 0x03b00 ∷ drive 2251853900 0 0x07b00 ∷ drive 2251853900 7 0x08000 ∷ drive 2251853900 0 0x03a00 ∷ drive 2251853900 7 0x00000 ∷ drive 2251853900 0 0x00000 ∷ []

abbrev unanswered_by_struck_ids_run_events : List Event
unanswered_by_struck_ids_run_events = events.Accept (command 1) ∷ events.Run (command 1) ∷ events.End (command 1) 0 ∷ []

unanswered_by_struck_ids_run_told : shown unanswered_by_struck_ids_run (story unanswered_by_struck_ids_run (reverse unanswered_by_struck_ids_run_rows)) (reverse unanswered_by_struck_ids_run_events) ≡ record { history = reverse unanswered_by_struck_ids_run_events; ends = Some (ended_good (0 ∷ 1 ∷ 2 ∷ 3 ∷ 4 ∷ 5 ∷ 6 ∷ 7 ∷ 8 ∷ 9 ∷ 10 ∷ 11 ∷ 12 ∷ 13 ∷ 14 ∷ 15 ∷ [])) ∷ []; carried = true }
unfolding need_of sent_of ones union_below line_of form_out form_in
unanswered_by_struck_ids_run_told = refl

unanswered_by_struck_ids_run_struck : expected_strikes unanswered_by_struck_ids_run (reverse unanswered_by_struck_ids_run_rows) ≡ row_strikes unanswered_by_struck_ids_run_rows
unfolding need_of sent_of ones union_below line_of form_out form_in
unanswered_by_struck_ids_run_struck = refl

-- ---- write_in_bursts_run

abbrev write_in_bursts_run : ScenarioValue
write_in_bursts_run = record {
  version = 1;
  hosts = record { dev = 7; latency = 0; most = 1; retries = 2; period = 0; offset = 0; lag = 0; offers = true } ∷ [];
  targets = record { dev = 0; latency = 0; retries = 2; disc = policies.Burst 1; pick = picks.First; seek = 0; period = 0; offset = 0; begins = false } ∷ [];
  units = record { target = 0; unit = 0; blocks = 4; size = 16; depth = 1 } ∷ [];
  fills = [];
  tapes = [];
  loads = [];
  commands = record { host = 7; target = 0; unit = 0; at = 0; tag = tags.Simple 1; cdb = (10 ∷ 0 ∷ 0 ∷ 0 ∷ 4 ∷ 0 ∷ []); payload = payloads.From 0 } ∷ [];
  aborts = [];
  resets = [];
  faults = [];
}

abbrev pub write_in_bursts_run_rows : List Row
write_in_bursts_run_rows = drive 1200 7 0x00280 ∷ drive 3600 7 0x00680 ∷ drive 4800 7 0x10781 ∷ drive 4890 7 0x10581 ∷ drive 5290 0 0x00200 ∷ drive 5380 7 0x10000 ∷ drive 5380 0 0x02a00 ∷ drive 5780 0 0x06a00 ∷ drive 5780 7 0x101c0 ∷ drive 5835 7 0x181c0 ∷ drive 5835 0 0x02a00 ∷ drive 5835 7 0x10000 ∷ drive 5835 0 0x06a00 ∷ drive 5835 7 0x10020 ∷ drive 5890 7 0x18020 ∷ drive 5890 0 0x02a00 ∷ drive 5890 7 0x10000 ∷ drive 5890 0 0x06a00 ∷ drive 5890 7 0x00001 ∷ drive 5980 7 0x08001 ∷ drive 5980 0 0x02a00 ∷ drive 5980 7 0x00000 ∷ drive 5980 0 0x00a00 ∷ drive 6380 0 0x04a00 ∷ drive 6380 7 0x0010a ∷ drive 6435 7 0x0810a ∷ drive 6435 0 0x00a00 ∷ drive 6435 7 0x00000 ∷ drive 6435 0 0x04a00 ∷ drive 6435 7 0x00100 ∷ drive 6490 7 0x08100 ∷ drive 6490 0 0x00a00 ∷ drive 6490 7 0x00000 ∷ drive 6490 0 0x04a00 ∷ drive 6490 7 0x00100 ∷ drive 6545 7 0x08100 ∷ drive 6545 0 0x00a00 ∷ drive 6545 7 0x00000 ∷ drive 6545 0 0x04a00 ∷ drive 6545 7 0x00100 ∷ drive 6600 7 0x08100 ∷ drive 6600 0 0x00a00 ∷ drive 6600 7 0x00000 ∷ drive 6600 0 0x04a00 ∷ drive 6600 7 0x00004 ∷ drive 6655 7 0x08004 ∷ drive 6655 0 0x00a00 ∷ drive 6655 7 0x00000 ∷ drive 6655 0 0x04a00 ∷ drive 6655 7 0x00100 ∷ drive 6710 7 0x08100 ∷ drive 6710 0 0x00a00 ∷ drive 6710 7 0x00000 ∷ drive 6710 0 0x03a00 ∷ drive 7510 0 0x03a04 ∷ drive 7565 0 0x07a04 ∷ drive 7565 7 0x08000 ∷ drive 7565 0 0x03a00 ∷ drive 7565 7 0x00000 ∷ drive 7565 0 0x00000 ∷ drive 8765 0 0x00201 ∷ drive 11165 0 0x00601 ∷ drive 12365 0 0x01781 ∷ drive 12455 0 0x01581 ∷ drive 12855 7 0x00200 ∷ drive 12855 0 0x01781 ∷ drive 12945 0 0x03a80 ∷ drive 12945 7 0x00000 ∷ drive 13345 0 0x07a80 ∷ drive 13345 7 0x08000 ∷ drive 13345 0 0x03a20 ∷ drive 13345 7 0x00000 ∷ drive 13400 0 0x07a20 ∷ drive 13400 7 0x08000 ∷ drive 13400 0 0x03a01 ∷ drive 13400 7 0x00000 ∷ drive 13455 0 0x07a01 ∷ drive 13455 7 0x08000 ∷ drive 13455 0 0x03a00 ∷ drive 13455 7 0x00000 ∷ drive 13455 0 0x00200 ∷ drive 13855 0 0x04200 ∷ drive 13855 7 0x00100 ∷ drive 13910 7 0x08100 ∷ drive 13910 0 0x00200 ∷ drive 13910 7 0x00000 ∷ drive 13910 0 0x04200 ∷ drive 13910 7 0x00001 ∷ drive 13965 7 0x08001 ∷ drive 13965 0 0x00200 ∷ drive 13965 7 0x00000 ∷ drive 13965 0 0x04200 ∷ drive 13965 7 0x00002 ∷ drive 14020 7 0x08002 ∷ drive 14020 0 0x00200 ∷ drive 14020 7 0x00000 ∷ drive 14020 0 0x04200 ∷ drive 14020 7 0x00103 ∷ drive 14075 7 0x08103 ∷ drive 14075 0 0x00200 ∷ drive 14075 7 0x00000 ∷ drive 14075 0 0x04200 ∷ drive 14075 7 0x00004 ∷ drive 14130 7 0x08004 ∷ drive 14130 0 0x00200 ∷ drive 14130 7 0x00000 ∷ drive 14130 0 0x04200 ∷ drive 14130 7 0x00105 ∷ drive 14185 7 0x08105 ∷ drive 14185 0 0x00200 ∷ drive 14185 7 0x00000 ∷ drive 14185 0 0x04200 ∷ drive 14185 7 0x00106 ∷ drive 14240 7 0x08106 ∷ drive 14240 0 0x00200 ∷ drive 14240 7 0x00000 ∷ drive 14240 0 0x04200 ∷ drive 14240 7 0x00007 ∷ drive 14295 7 0x08007 ∷ drive 14295 0 0x00200 ∷ drive 14295 7 0x00000 ∷ drive 14295 0 0x04200 ∷ drive 14295 7 0x00008 ∷ drive 14350 7 0x08008 ∷ drive 14350 0 0x00200 ∷ drive 14350 7 0x00000 ∷ drive 14350 0 0x04200 ∷ drive 14350 7 0x00109 ∷ drive 14405 7 0x08109 ∷ drive 14405 0 0x00200 ∷ drive 14405 7 0x00000 ∷ drive 14405 0 0x04200 ∷ drive 14405 7 0x0010a ∷ drive 14460 7 0x0810a ∷ drive 14460 0 0x00200 ∷ drive 14460 7 0x00000 ∷ drive 14460 0 0x04200 ∷ drive 14460 7 0x0000b ∷ drive 14515 7 0x0800b ∷ drive 14515 0 0x00200 ∷ drive 14515 7 0x00000 ∷ drive 14515 0 0x04200 ∷ drive 14515 7 0x0010c ∷ drive 14570 7 0x0810c ∷ drive 14570 0 0x00200 ∷ drive 14570 7 0x00000 ∷ drive 14570 0 0x04200 ∷ drive 14570 7 0x0000d ∷ drive 14625 7 0x0800d ∷ drive 14625 0 0x00200 ∷ drive 14625 7 0x00000 ∷ drive 14625 0 0x04200 ∷ drive 14625 7 0x0000e ∷ drive 14680 7 0x0800e ∷ drive 14680 0 0x00200 ∷ drive 14680 7 0x00000 ∷ drive 14680 0 0x04200 ∷ drive 14680 7 0x0010f ∷ drive 14735 7 0x0810f ∷ drive 14735 0 0x00200 ∷ drive 14735 7 0x00000 ∷ drive 14735 0 0x03a00 ∷ drive 15535 0 0x03a02 ∷ drive 15590 0 0x07a02 ∷ drive 15590 7 0x08000 ∷ drive 15590 0 0x03a04 ∷ drive 15590 7 0x00000 ∷ drive 15645 0 0x07a04 ∷ drive 15645 7 0x08000 ∷ drive 15645 0 0x03a00 ∷ drive 15645 7 0x00000 ∷ drive 15645 0 0x00000 ∷ drive 16845 0 0x00201 ∷ drive 19245 0 0x00601 ∷ drive 20445 0 0x01781 ∷ drive 20535 0 0x01581 ∷ drive 20935 7 0x00200 ∷ drive 20935 0 0x01781 ∷ drive 21025 0 0x03a80 ∷ drive 21025 7 0x00000 ∷ drive 21425 0 0x07a80 ∷ drive 21425 7 0x08000 ∷ drive 21425 0 0x03a20 ∷ drive 21425 7 0x00000 ∷ drive 21480 0 0x07a20 ∷ drive 21480 7 0x08000 ∷ drive 21480 0 0x03a01 ∷ drive 21480 7 0x00000 ∷ drive 21535 0 0x07a01 ∷ drive 21535 7 0x08000 ∷ drive 21535 0 0x03a00 ∷ drive 21535 7 0x00000 ∷ drive 21535 0 0x00200 ∷ drive 21935 0 0x04200 ∷ drive 21935 7 0x00010 ∷ drive 21990 7 0x08010 ∷ drive 21990 0 0x00200 ∷ drive 21990 7 0x00000 ∷ drive 21990 0 0x04200 ∷ drive 21990 7 0x00111 ∷ drive 22045 7 0x08111 ∷ drive 22045 0 0x00200 ∷ drive 22045 7 0x00000 ∷ drive 22045 0 0x04200 ∷ drive 22045 7 0x00112 ∷ drive 22100 7 0x08112 ∷ drive 22100 0 0x00200 ∷ drive 22100 7 0x00000 ∷ drive 22100 0 0x04200 ∷ drive 22100 7 0x00013 ∷ drive 22155 7 0x08013 ∷ drive 22155 0 0x00200 ∷ drive 22155 7 0x00000 ∷ drive 22155 0 0x04200 ∷ drive 22155 7 0x00114 ∷ drive 22210 7 0x08114 ∷ drive 22210 0 0x00200 ∷ drive 22210 7 0x00000 ∷ drive 22210 0 0x04200 ∷ drive 22210 7 0x00015 ∷ drive 22265 7 0x08015 ∷ drive 22265 0 0x00200 ∷ drive 22265 7 0x00000 ∷ drive 22265 0 0x04200 ∷ drive 22265 7 0x00016 ∷ drive 22320 7 0x08016 ∷ drive 22320 0 0x00200 ∷ drive 22320 7 0x00000 ∷ drive 22320 0 0x04200 ∷ drive 22320 7 0x00117 ∷ drive 22375 7 0x08117 ∷ drive 22375 0 0x00200 ∷ drive 22375 7 0x00000 ∷ drive 22375 0 0x04200 ∷ drive 22375 7 0x00118 ∷ drive 22430 7 0x08118 ∷ drive 22430 0 0x00200 ∷ drive 22430 7 0x00000 ∷ drive 22430 0 0x04200 ∷ drive 22430 7 0x00019 ∷ drive 22485 7 0x08019 ∷ drive 22485 0 0x00200 ∷ drive 22485 7 0x00000 ∷ drive 22485 0 0x04200 ∷ drive 22485 7 0x0001a ∷ drive 22540 7 0x0801a ∷ drive 22540 0 0x00200 ∷ drive 22540 7 0x00000 ∷ drive 22540 0 0x04200 ∷ drive 22540 7 0x0011b ∷ drive 22595 7 0x0811b ∷ drive 22595 0 0x00200 ∷ drive 22595 7 0x00000 ∷ drive 22595 0 0x04200 ∷ drive 22595 7 0x0001c ∷ drive 22650 7 0x0801c ∷ drive 22650 0 0x00200 ∷ drive 22650 7 0x00000 ∷ drive 22650 0 0x04200 ∷ drive 22650 7 0x0011d ∷ drive 22705 7 0x0811d ∷ drive 22705 0 0x00200 ∷ drive 22705 7 0x00000 ∷ drive 22705 0 0x04200 ∷ drive 22705 7 0x0011e ∷ drive 22760 7 0x0811e ∷ drive 22760 0 0x00200 ∷ drive 22760 7 0x00000 ∷ drive 22760 0 0x04200 ∷ drive 22760 7 0x0001f ∷ drive 22815 7 0x0801f ∷ drive 22815 0 0x00200 ∷ drive 22815 7 0x00000 ∷ drive 22815 0 0x03a00 ∷ drive 23615 0 0x03a02 ∷ drive 23670 0 0x07a02 ∷ drive 23670 7 0x08000 ∷ drive 23670 0 0x03a04 ∷ drive 23670 7 0x00000 ∷ drive 23725 0 0x07a04 ∷ drive 23725 7 0x08000 ∷ drive 23725 0 0x03a00 ∷ drive 23725 7 0x00000 ∷ drive 23725 0 0x00000 ∷ drive 24925 0 0x00201 ∷ drive 27325 0 0x00601 ∷ drive 28525 0 0x01781 ∷ drive 28615 0 0x01581 ∷ drive 29015 7 0x00200 ∷ drive 29015 0 0x01781 ∷ drive 29105 0 0x03a80 ∷ drive 29105 7 0x00000 ∷ drive 29505 0 0x07a80 ∷ drive 29505 7 0x08000 ∷ drive 29505 0 0x03a20 ∷ drive 29505 7 0x00000 ∷ drive 29560 0 0x07a20 ∷ drive 29560 7 0x08000 ∷ drive 29560 0 0x03a01 ∷ drive 29560 7 0x00000 ∷ drive 29615 0 0x07a01 ∷ drive 29615 7 0x08000 ∷ drive 29615 0 0x03a00 ∷ drive 29615 7 0x00000 ∷ drive 29615 0 0x00200 ∷ drive 30015 0 0x04200 ∷ drive 30015 7 0x00020 ∷ drive 30070 7 0x08020 ∷ drive 30070 0 0x00200 ∷ drive 30070 7 0x00000 ∷ drive 30070 0 0x04200 ∷ drive 30070 7 0x00121 ∷ drive 30125 7 0x08121 ∷ drive 30125 0 0x00200 ∷ drive 30125 7 0x00000 ∷ drive 30125 0 0x04200 ∷ drive 30125 7 0x00122 ∷ drive 30180 7 0x08122 ∷ drive 30180 0 0x00200 ∷ drive 30180 7 0x00000 ∷ drive 30180 0 0x04200 ∷ drive 30180 7 0x00023 ∷ drive 30235 7 0x08023 ∷ drive 30235 0 0x00200 ∷ drive 30235 7 0x00000 ∷ drive 30235 0 0x04200 ∷ drive 30235 7 0x00124 ∷ drive 30290 7 0x08124 ∷ drive 30290 0 0x00200 ∷ drive 30290 7 0x00000 ∷ drive 30290 0 0x04200 ∷ drive 30290 7 0x00025 ∷ drive 30345 7 0x08025 ∷ drive 30345 0 0x00200 ∷ drive 30345 7 0x00000 ∷ drive 30345 0 0x04200 ∷ drive 30345 7 0x00026 ∷ drive 30400 7 0x08026 ∷ drive 30400 0 0x00200 ∷ drive 30400 7 0x00000 ∷ drive 30400 0 0x04200 ∷ drive 30400 7 0x00127 ∷ drive 30455 7 0x08127 ∷ drive 30455 0 0x00200 ∷ drive 30455 7 0x00000 ∷ drive 30455 0 0x04200 ∷ drive 30455 7 0x00128 ∷ drive 30510 7 0x08128 ∷ drive 30510 0 0x00200 ∷ drive 30510 7 0x00000 ∷ drive 30510 0 0x04200 ∷ drive 30510 7 0x00029 ∷ drive 30565 7 0x08029 ∷ drive 30565 0 0x00200 ∷ drive 30565 7 0x00000 ∷ drive 30565 0 0x04200 ∷ drive 30565 7 0x0002a ∷ drive 30620 7 0x0802a ∷ drive 30620 0 0x00200 ∷ drive 30620 7 0x00000 ∷ drive 30620 0 0x04200 ∷ drive 30620 7 0x0012b ∷ drive 30675 7 0x0812b ∷ drive 30675 0 0x00200 ∷ drive 30675 7 0x00000 ∷ drive 30675 0 0x04200 ∷ drive 30675 7 0x0002c ∷ drive 30730 7 0x0802c ∷ drive 30730 0 0x00200 ∷ drive 30730 7 0x00000 ∷ drive 30730 0 0x04200 ∷ drive 30730 7 0x0012d ∷ drive 30785 7 0x0812d ∷ drive 30785 0 0x00200 ∷ drive 30785 7 0x00000 ∷ drive 30785 0 0x04200 ∷ drive 30785 7 0x0012e ∷ drive 30840 7 0x0812e ∷ drive 30840 0 0x00200 ∷ drive 30840 7 0x00000 ∷ drive 30840 0 0x04200 ∷ drive 30840 7 0x0002f ∷ drive 30895 7 0x0802f ∷ drive 30895 0 0x00200 ∷ drive 30895 7 0x00000 ∷ drive 30895 0 0x03a00 ∷ drive 31695 0 0x03a02 ∷ drive 31750 0 0x07a02 ∷ drive 31750 7 0x08000 ∷ drive 31750 0 0x03a04 ∷ drive 31750 7 0x00000 ∷ drive 31805 0 0x07a04 ∷ drive 31805 7 0x08000 ∷ drive 31805 0 0x03a00 ∷ drive 31805 7 0x00000 ∷ drive 31805 0 0x00000 ∷ drive 33005 0 0x00201 ∷ drive 35405 0 0x00601 ∷ drive 36605 0 0x01781 ∷ drive 36695 0 0x01581 ∷ drive 37095 7 0x00200 ∷ drive 37095 0 0x01781 ∷ drive 37185 0 0x03a80 ∷ drive 37185 7 0x00000 ∷ drive 37585 0 0x07a80 ∷ drive 37585 7 0x08000 ∷ drive 37585 0 0x03a20 ∷ drive 37585 7 0x00000 ∷ drive 37640 0 0x07a20 ∷ drive 37640 7 0x08000 ∷ drive 37640 0 0x03a01 ∷ drive 37640 7 0x00000 ∷ drive 37695 0 0x07a01 ∷ drive 37695 7 0x08000 ∷ drive 37695 0 0x03a00 ∷ drive 37695 7 0x00000 ∷ drive 37695 0 0x00200 ∷ drive 38095 0 0x04200 ∷ drive 38095 7 0x00130 ∷ drive 38150 7 0x08130 ∷ drive 38150 0 0x00200 ∷ drive 38150 7 0x00000 ∷ drive 38150 0 0x04200 ∷ drive 38150 7 0x00031 ∷ drive 38205 7 0x08031 ∷ drive 38205 0 0x00200 ∷ drive 38205 7 0x00000 ∷ drive 38205 0 0x04200 ∷ drive 38205 7 0x00032 ∷ drive 38260 7 0x08032 ∷ drive 38260 0 0x00200 ∷ drive 38260 7 0x00000 ∷ drive 38260 0 0x04200 ∷ drive 38260 7 0x00133 ∷ drive 38315 7 0x08133 ∷ drive 38315 0 0x00200 ∷ drive 38315 7 0x00000 ∷ drive 38315 0 0x04200 ∷ drive 38315 7 0x00034 ∷ drive 38370 7 0x08034 ∷ drive 38370 0 0x00200 ∷ drive 38370 7 0x00000 ∷ drive 38370 0 0x04200 ∷ drive 38370 7 0x00135 ∷ drive 38425 7 0x08135 ∷ drive 38425 0 0x00200 ∷ drive 38425 7 0x00000 ∷ drive 38425 0 0x04200 ∷ drive 38425 7 0x00136 ∷ drive 38480 7 0x08136 ∷ drive 38480 0 0x00200 ∷ drive 38480 7 0x00000 ∷ drive 38480 0 0x04200 ∷ drive 38480 7 0x00037 ∷ drive 38535 7 0x08037 ∷ drive 38535 0 0x00200 ∷ drive 38535 7 0x00000 ∷ drive 38535 0 0x04200 ∷ drive 38535 7 0x00038 ∷ drive 38590 7 0x08038 ∷ drive 38590 0 0x00200 ∷ drive 38590 7 0x00000 ∷ drive 38590 0 0x04200 ∷ drive 38590 7 0x00139 ∷ drive 38645 7 0x08139 ∷ drive 38645 0 0x00200 ∷ drive 38645 7 0x00000 ∷ drive 38645 0 0x04200 ∷ drive 38645 7 0x0013a ∷ drive 38700 7 0x0813a ∷ drive 38700 0 0x00200 ∷ drive 38700 7 0x00000 ∷ drive 38700 0 0x04200 ∷ drive 38700 7 0x0003b ∷ drive 38755 7 0x0803b ∷ drive 38755 0 0x00200 ∷ drive 38755 7 0x00000 ∷ drive 38755 0 0x04200 ∷ drive 38755 7 0x0013c ∷ drive 38810 7 0x0813c ∷ drive 38810 0 0x00200 ∷ drive 38810 7 0x00000 ∷ drive 38810 0 0x04200 ∷ drive 38810 7 0x0003d ∷ drive 38865 7 0x0803d ∷ drive 38865 0 0x00200 ∷ drive 38865 7 0x00000 ∷ drive 38865 0 0x04200 ∷ drive 38865 7 0x0003e ∷ drive 38920 7 0x0803e ∷ drive 38920 0 0x00200 ∷ drive 38920 7 0x00000 ∷ drive 38920 0 0x04200 ∷ drive 38920 7 0x0013f ∷ drive 38975 7 0x0813f ∷ drive 38975 0 0x00200 ∷ drive 38975 7 0x00000 ∷ drive 38975 0 0x01a00 ∷ drive 39775 0 0x01b00 ∷ drive 39830 0 0x05b00 ∷ drive 39830 7 0x08000 ∷ drive 39830 0 0x01a00 ∷ drive 39830 7 0x00000 ∷ drive 39830 0 0x03b00 ∷ drive 40230 0 0x07b00 ∷ drive 40230 7 0x08000 ∷ drive 40230 0 0x03a00 ∷ drive 40230 7 0x00000 ∷ drive 40230 0 0x00000 ∷ []

abbrev write_in_bursts_run_events : List Event
write_in_bursts_run_events = events.Accept (command 1) ∷ events.Run (command 1) ∷ events.End (command 1) 0 ∷ []

write_in_bursts_run_told : shown write_in_bursts_run (story write_in_bursts_run (reverse write_in_bursts_run_rows)) (reverse write_in_bursts_run_events) ≡ record { history = reverse write_in_bursts_run_events; ends = Some (ended_good ([])) ∷ []; carried = true }
unfolding need_of sent_of ones union_below line_of form_out form_in
write_in_bursts_run_told = refl
