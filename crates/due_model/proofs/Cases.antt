-- Whole runs: their scenarios, and the rows and histories of their reports, which an independent simulator printed.
-- Written by tools/makers/due_case.py.
use Rattle.bus_rules.specs.bus_trace.specs.LineSet.{set_of}
use Rattle.bus_rules.specs.bus_trace.specs.declared.Row.{Row}
use Rattle.bus_rules.specs.bus_trace.specs.declared.Kind.TheVariants.{Drives, Fault}
use Rattle.due_model.specs.Run.{Run, history_of}
use Rattle.std.proofs.Common.{ℕ, ◌≡◌, Bool, true, false, List, [], ◌∷◌, reverse, refl}
use Rattle.std.specs.Prelude.{Option, Some, None}
use lib.Count.{ones}
use Rattle.bus_rules.specs.bus_base.specs.declared.ProcId.{ProcId}
use Rattle.bus_rules.specs.bus_base.specs.declared.AbortKind.TheVariants as aborts
use Rattle.bus_rules.specs.bus_base.specs.declared.Event.{Event}
use Rattle.bus_rules.specs.bus_base.specs.declared.Event.TheVariants as events
use Rattle.bus_rules.specs.bus_base.specs.declared.events.Pick.TheVariants as picks
use Rattle.dialogue_model.specs.scenario.specs.declared.value.FillDef.{FillDef}
use Rattle.dialogue_model.specs.scenario.specs.declared.value.UnitDef.{UnitDef}
use Rattle.dialogue_model.specs.scenario.specs.declared.value.Policy.TheVariants as policies
use Rattle.dialogue_model.specs.scenario.specs.declared.value.Load.TheVariants as loads
use Rattle.dialogue_model.specs.scenario.specs.declared.value.Tag.TheVariants as tags
use Rattle.dialogue_model.specs.scenario.specs.declared.value.Payload.TheVariants as payloads
use Rattle.dialogue_model.specs.scenario.specs.Value.{ScenarioValue}
use Rattle.dialogue_model.specs.scenario.specs.Needs.{need_of, sent_of}
use Rattle.dialogue_model.specs.array_model.specs.Contents.{Contents, starting_contents, printed_blocks}
use Rattle.dialogue_model.specs.array_model.specs.Execution.{Reply, good, check_condition, queue_full, sense_of}
use Rattle.dialogue_model.specs.array_model.specs.ArrayHistory.{array_after, disks_of, reply_of}

abbrev drive : ℕ → ℕ → ℕ → Row
drive time dev lines = record { time = time; dev = dev; kind = Drives (set_of lines) }

abbrev strike : ℕ → ℕ → ℕ → Row
strike time dev bit = record { time = time; dev = dev; kind = Fault bit }

-- What a report shows of a run: its rows, its history, and that it is over.
pub record Shows : Type 0 where
  pub rows : List Row
  pub history : List Event
  pub ended : Bool

abbrev pub shown : Run → Shows
shown r = record { rows = r.rows; history = history_of r; ended = r.ended }

abbrev command : ℕ → ProcId
command n = record { command = n; sense = false }

abbrev sense : ℕ → ProcId
sense n = record { command = n; sense = true }

-- ---- absent_unit_due

abbrev pub absent_unit_due : ScenarioValue
absent_unit_due = record {
  version = 1;
  hosts = record { dev = 7; latency = 35; most = 1; retries = 2; period = 0; offset = 0; lag = 0; offers = true } ∷ [];
  targets = record { dev = 0; latency = 29; retries = 2; disc = policies.Command; pick = picks.First; seek = 800; period = 0; offset = 0; begins = false } ∷ [];
  units = record { target = 0; unit = 0; blocks = 1; size = 16; depth = 1 } ∷ [];
  fills = [];
  tapes = [];
  loads = [];
  commands = record { host = 7; target = 0; unit = 3; at = 0; tag = tags.Untagged; cdb = (18 ∷ 0 ∷ 0 ∷ 0 ∷ 1 ∷ 0 ∷ []); payload = payloads.Nothing } ∷ record { host = 7; target = 0; unit = 3; at = 0; tag = tags.Simple 3; cdb = (3 ∷ 0 ∷ 0 ∷ 0 ∷ 3 ∷ 0 ∷ []); payload = payloads.Nothing } ∷ [];
  aborts = [];
  resets = [];
  faults = [];
}

abbrev pub absent_unit_due_rows : List Row
absent_unit_due_rows = drive 1235 7 0x00280 ∷ drive 3670 7 0x00680 ∷ drive 4905 7 0x10781 ∷ drive 5030 7 0x10581 ∷ drive 5459 0 0x00200 ∷ drive 5584 7 0x10000 ∷ drive 5613 0 0x02a00 ∷ drive 6042 0 0x06a00 ∷ drive 6077 7 0x001c3 ∷ drive 6202 7 0x081c3 ∷ drive 6231 0 0x02a00 ∷ drive 6266 7 0x00000 ∷ drive 6295 0 0x00a00 ∷ drive 6724 0 0x04a00 ∷ drive 6759 7 0x00112 ∷ drive 6849 7 0x08112 ∷ drive 6878 0 0x00a00 ∷ drive 6913 7 0x00000 ∷ drive 6942 0 0x04a00 ∷ drive 6977 7 0x00100 ∷ drive 7067 7 0x08100 ∷ drive 7096 0 0x00a00 ∷ drive 7131 7 0x00000 ∷ drive 7160 0 0x04a00 ∷ drive 7195 7 0x00100 ∷ drive 7285 7 0x08100 ∷ drive 7314 0 0x00a00 ∷ drive 7349 7 0x00000 ∷ drive 7378 0 0x04a00 ∷ drive 7413 7 0x00100 ∷ drive 7503 7 0x08100 ∷ drive 7532 0 0x00a00 ∷ drive 7567 7 0x00000 ∷ drive 7596 0 0x04a00 ∷ drive 7631 7 0x00001 ∷ drive 7721 7 0x08001 ∷ drive 7750 0 0x00a00 ∷ drive 7785 7 0x00000 ∷ drive 7814 0 0x04a00 ∷ drive 7849 7 0x00100 ∷ drive 7939 7 0x08100 ∷ drive 7968 0 0x00a00 ∷ drive 8003 7 0x00000 ∷ drive 8032 0 0x01200 ∷ drive 8861 0 0x0127f ∷ drive 8945 0 0x0527f ∷ drive 8980 7 0x08000 ∷ drive 9009 0 0x01200 ∷ drive 9044 7 0x00000 ∷ drive 9073 0 0x01b00 ∷ drive 9502 0 0x05b00 ∷ drive 9537 7 0x08000 ∷ drive 9566 0 0x01a00 ∷ drive 9601 7 0x00000 ∷ drive 9630 0 0x03b00 ∷ drive 10059 0 0x07b00 ∷ drive 10094 7 0x08000 ∷ drive 10123 0 0x03a00 ∷ drive 10158 7 0x00000 ∷ drive 10187 0 0x00000 ∷ drive 11422 7 0x00280 ∷ drive 13857 7 0x00680 ∷ drive 15092 7 0x10781 ∷ drive 15217 7 0x10581 ∷ drive 15646 0 0x00200 ∷ drive 15771 7 0x10000 ∷ drive 15800 0 0x02a00 ∷ drive 16229 0 0x06a00 ∷ drive 16264 7 0x101c3 ∷ drive 16354 7 0x181c3 ∷ drive 16383 0 0x02a00 ∷ drive 16418 7 0x10000 ∷ drive 16447 0 0x06a00 ∷ drive 16482 7 0x10020 ∷ drive 16572 7 0x18020 ∷ drive 16601 0 0x02a00 ∷ drive 16636 7 0x10000 ∷ drive 16665 0 0x06a00 ∷ drive 16700 7 0x00103 ∷ drive 16825 7 0x08103 ∷ drive 16854 0 0x02a00 ∷ drive 16889 7 0x00000 ∷ drive 16918 0 0x00a00 ∷ drive 17347 0 0x04a00 ∷ drive 17382 7 0x00103 ∷ drive 17472 7 0x08103 ∷ drive 17501 0 0x00a00 ∷ drive 17536 7 0x00000 ∷ drive 17565 0 0x04a00 ∷ drive 17600 7 0x00100 ∷ drive 17690 7 0x08100 ∷ drive 17719 0 0x00a00 ∷ drive 17754 7 0x00000 ∷ drive 17783 0 0x04a00 ∷ drive 17818 7 0x00100 ∷ drive 17908 7 0x08100 ∷ drive 17937 0 0x00a00 ∷ drive 17972 7 0x00000 ∷ drive 18001 0 0x04a00 ∷ drive 18036 7 0x00100 ∷ drive 18126 7 0x08100 ∷ drive 18155 0 0x00a00 ∷ drive 18190 7 0x00000 ∷ drive 18219 0 0x04a00 ∷ drive 18254 7 0x00103 ∷ drive 18344 7 0x08103 ∷ drive 18373 0 0x00a00 ∷ drive 18408 7 0x00000 ∷ drive 18437 0 0x04a00 ∷ drive 18472 7 0x00100 ∷ drive 18562 7 0x08100 ∷ drive 18591 0 0x00a00 ∷ drive 18626 7 0x00000 ∷ drive 18655 0 0x01200 ∷ drive 19484 0 0x01270 ∷ drive 19568 0 0x05270 ∷ drive 19603 7 0x08000 ∷ drive 19632 0 0x01300 ∷ drive 19667 7 0x00000 ∷ drive 19716 0 0x05300 ∷ drive 19751 7 0x08000 ∷ drive 19780 0 0x01305 ∷ drive 19815 7 0x00000 ∷ drive 19864 0 0x05305 ∷ drive 19899 7 0x08000 ∷ drive 19928 0 0x01200 ∷ drive 19963 7 0x00000 ∷ drive 19992 0 0x01b00 ∷ drive 20421 0 0x05b00 ∷ drive 20456 7 0x08000 ∷ drive 20485 0 0x01a00 ∷ drive 20520 7 0x00000 ∷ drive 20549 0 0x03b00 ∷ drive 20978 0 0x07b00 ∷ drive 21013 7 0x08000 ∷ drive 21042 0 0x03a00 ∷ drive 21077 7 0x00000 ∷ drive 21106 0 0x00000 ∷ []

abbrev absent_unit_due_events : List Event
absent_unit_due_events = events.Accept (command 1) ∷ events.Run (command 1) ∷ events.End (command 1) 0 ∷ events.Accept (command 2) ∷ events.Run (command 2) ∷ events.End (command 2) 0 ∷ []

abbrev pub absent_unit_due_shown : Shows
absent_unit_due_shown = record { rows = reverse absent_unit_due_rows; history = reverse absent_unit_due_events; ended = true }

-- ---- burst_without_tags_due

abbrev pub burst_without_tags_due : ScenarioValue
burst_without_tags_due = record {
  version = 1;
  hosts = record { dev = 7; latency = 0; most = 1; retries = 2; period = 50; offset = 4; lag = 0; offers = true } ∷ [];
  targets = record { dev = 6; latency = 3; retries = 2; disc = policies.Burst 1; pick = picks.First; seek = 0; period = 60; offset = 2; begins = false } ∷ [];
  units = record { target = 6; unit = 0; blocks = 2; size = 16; depth = 1 } ∷ [];
  fills = record { target = 6; unit = 0; lba = 0; bytes = (16 ∷ 17 ∷ 18 ∷ 19 ∷ 20 ∷ 21 ∷ 22 ∷ 23 ∷ 24 ∷ 25 ∷ 26 ∷ 27 ∷ 28 ∷ 29 ∷ 30 ∷ 31 ∷ []) } ∷ [];
  tapes = [];
  loads = [];
  commands = record { host = 7; target = 6; unit = 0; at = 0; tag = tags.Untagged; cdb = (8 ∷ 0 ∷ 0 ∷ 0 ∷ 2 ∷ 0 ∷ []); payload = payloads.Nothing } ∷ [];
  aborts = [];
  resets = [];
  faults = [];
}

abbrev pub burst_without_tags_due_rows : List Row
burst_without_tags_due_rows = drive 1200 7 0x00280 ∷ drive 3600 7 0x00680 ∷ drive 4800 7 0x107c0 ∷ drive 4890 7 0x105c0 ∷ drive 5293 6 0x00200 ∷ drive 5383 7 0x10000 ∷ drive 5386 6 0x02a00 ∷ drive 5789 6 0x06a00 ∷ drive 5789 7 0x101c0 ∷ drive 5844 7 0x181c0 ∷ drive 5847 6 0x02a00 ∷ drive 5847 7 0x10000 ∷ drive 5850 6 0x06a00 ∷ drive 5850 7 0x10001 ∷ drive 5905 7 0x18001 ∷ drive 5908 6 0x02a00 ∷ drive 5908 7 0x10000 ∷ drive 5911 6 0x06a00 ∷ drive 5911 7 0x10103 ∷ drive 5966 7 0x18103 ∷ drive 5969 6 0x02a00 ∷ drive 5969 7 0x10000 ∷ drive 5972 6 0x06a00 ∷ drive 5972 7 0x10001 ∷ drive 6027 7 0x18001 ∷ drive 6030 6 0x02a00 ∷ drive 6030 7 0x10000 ∷ drive 6033 6 0x06a00 ∷ drive 6033 7 0x10032 ∷ drive 6088 7 0x18032 ∷ drive 6091 6 0x02a00 ∷ drive 6091 7 0x10000 ∷ drive 6094 6 0x06a00 ∷ drive 6094 7 0x00004 ∷ drive 6184 7 0x08004 ∷ drive 6187 6 0x02a00 ∷ drive 6187 7 0x00000 ∷ drive 6190 6 0x03a00 ∷ drive 6993 6 0x03a01 ∷ drive 7051 6 0x07a01 ∷ drive 7051 7 0x08000 ∷ drive 7054 6 0x03b03 ∷ drive 7054 7 0x00000 ∷ drive 7112 6 0x07b03 ∷ drive 7112 7 0x08000 ∷ drive 7115 6 0x03a01 ∷ drive 7115 7 0x00000 ∷ drive 7173 6 0x07a01 ∷ drive 7173 7 0x08000 ∷ drive 7176 6 0x03b3c ∷ drive 7176 7 0x00000 ∷ drive 7234 6 0x07b3c ∷ drive 7234 7 0x08000 ∷ drive 7237 6 0x03a02 ∷ drive 7237 7 0x00000 ∷ drive 7295 6 0x07a02 ∷ drive 7295 7 0x08000 ∷ drive 7298 6 0x03a00 ∷ drive 7298 7 0x00000 ∷ drive 7301 6 0x00a00 ∷ drive 7704 6 0x04a00 ∷ drive 7704 7 0x00008 ∷ drive 7759 7 0x08008 ∷ drive 7762 6 0x00a00 ∷ drive 7762 7 0x00000 ∷ drive 7765 6 0x04a00 ∷ drive 7765 7 0x00100 ∷ drive 7820 7 0x08100 ∷ drive 7823 6 0x00a00 ∷ drive 7823 7 0x00000 ∷ drive 7826 6 0x04a00 ∷ drive 7826 7 0x00100 ∷ drive 7881 7 0x08100 ∷ drive 7884 6 0x00a00 ∷ drive 7884 7 0x00000 ∷ drive 7887 6 0x04a00 ∷ drive 7887 7 0x00100 ∷ drive 7942 7 0x08100 ∷ drive 7945 6 0x00a00 ∷ drive 7945 7 0x00000 ∷ drive 7948 6 0x04a00 ∷ drive 7948 7 0x00002 ∷ drive 8003 7 0x08002 ∷ drive 8006 6 0x00a00 ∷ drive 8006 7 0x00000 ∷ drive 8009 6 0x04a00 ∷ drive 8009 7 0x00100 ∷ drive 8064 7 0x08100 ∷ drive 8067 6 0x00a00 ∷ drive 8067 7 0x00000 ∷ drive 8070 6 0x03a00 ∷ drive 8873 6 0x03a04 ∷ drive 8931 6 0x07a04 ∷ drive 8931 7 0x08000 ∷ drive 8934 6 0x03a00 ∷ drive 8934 7 0x00000 ∷ drive 8937 6 0x00000 ∷ drive 10140 6 0x00240 ∷ drive 12543 6 0x00640 ∷ drive 13746 6 0x017c0 ∷ drive 13839 6 0x015c0 ∷ drive 14239 7 0x00200 ∷ drive 14242 6 0x017c0 ∷ drive 14335 6 0x03a80 ∷ drive 14335 7 0x00000 ∷ drive 14738 6 0x07a80 ∷ drive 14738 7 0x08000 ∷ drive 14741 6 0x03a00 ∷ drive 14741 7 0x00000 ∷ drive 14744 6 0x01210 ∷ drive 15147 6 0x05210 ∷ drive 15147 7 0x08000 ∷ drive 15237 7 0x00000 ∷ drive 15240 6 0x01210 ∷ drive 15250 6 0x01311 ∷ drive 15390 6 0x05311 ∷ drive 15390 7 0x08000 ∷ drive 15480 7 0x00000 ∷ drive 15483 6 0x01311 ∷ drive 15493 6 0x01312 ∷ drive 15633 6 0x05312 ∷ drive 15633 7 0x08000 ∷ drive 15723 7 0x00000 ∷ drive 15726 6 0x01312 ∷ drive 15736 6 0x01213 ∷ drive 15876 6 0x05213 ∷ drive 15876 7 0x08000 ∷ drive 15966 7 0x00000 ∷ drive 15969 6 0x01213 ∷ drive 15979 6 0x01314 ∷ drive 16119 6 0x05314 ∷ drive 16119 7 0x08000 ∷ drive 16209 7 0x00000 ∷ drive 16212 6 0x01314 ∷ drive 16222 6 0x01215 ∷ drive 16362 6 0x05215 ∷ drive 16362 7 0x08000 ∷ drive 16452 7 0x00000 ∷ drive 16455 6 0x01215 ∷ drive 16465 6 0x01216 ∷ drive 16605 6 0x05216 ∷ drive 16605 7 0x08000 ∷ drive 16695 7 0x00000 ∷ drive 16698 6 0x01216 ∷ drive 16708 6 0x01317 ∷ drive 16848 6 0x05317 ∷ drive 16848 7 0x08000 ∷ drive 16938 7 0x00000 ∷ drive 16941 6 0x01317 ∷ drive 16951 6 0x01318 ∷ drive 17091 6 0x05318 ∷ drive 17091 7 0x08000 ∷ drive 17181 7 0x00000 ∷ drive 17184 6 0x01318 ∷ drive 17194 6 0x01219 ∷ drive 17334 6 0x05219 ∷ drive 17334 7 0x08000 ∷ drive 17424 7 0x00000 ∷ drive 17427 6 0x01219 ∷ drive 17437 6 0x0121a ∷ drive 17577 6 0x0521a ∷ drive 17577 7 0x08000 ∷ drive 17667 7 0x00000 ∷ drive 17670 6 0x0121a ∷ drive 17680 6 0x0131b ∷ drive 17820 6 0x0531b ∷ drive 17820 7 0x08000 ∷ drive 17910 7 0x00000 ∷ drive 17913 6 0x0131b ∷ drive 17923 6 0x0121c ∷ drive 18063 6 0x0521c ∷ drive 18063 7 0x08000 ∷ drive 18153 7 0x00000 ∷ drive 18156 6 0x0121c ∷ drive 18166 6 0x0131d ∷ drive 18306 6 0x0531d ∷ drive 18306 7 0x08000 ∷ drive 18396 7 0x00000 ∷ drive 18399 6 0x0131d ∷ drive 18409 6 0x0131e ∷ drive 18549 6 0x0531e ∷ drive 18549 7 0x08000 ∷ drive 18639 7 0x00000 ∷ drive 18642 6 0x0131e ∷ drive 18652 6 0x0121f ∷ drive 18792 6 0x0521f ∷ drive 18792 7 0x08000 ∷ drive 18882 7 0x00000 ∷ drive 18885 6 0x0121f ∷ drive 18895 6 0x01200 ∷ drive 18895 6 0x03a02 ∷ drive 19298 6 0x07a02 ∷ drive 19298 7 0x08000 ∷ drive 19301 6 0x03a04 ∷ drive 19301 7 0x00000 ∷ drive 19359 6 0x07a04 ∷ drive 19359 7 0x08000 ∷ drive 19362 6 0x03a00 ∷ drive 19362 7 0x00000 ∷ drive 19365 6 0x00000 ∷ drive 20568 6 0x00240 ∷ drive 22971 6 0x00640 ∷ drive 24174 6 0x017c0 ∷ drive 24267 6 0x015c0 ∷ drive 24667 7 0x00200 ∷ drive 24670 6 0x017c0 ∷ drive 24763 6 0x03a80 ∷ drive 24763 7 0x00000 ∷ drive 25166 6 0x07a80 ∷ drive 25166 7 0x08000 ∷ drive 25169 6 0x03a00 ∷ drive 25169 7 0x00000 ∷ drive 25172 6 0x01300 ∷ drive 25575 6 0x05300 ∷ drive 25575 7 0x08000 ∷ drive 25665 7 0x00000 ∷ drive 25668 6 0x01300 ∷ drive 25818 6 0x05300 ∷ drive 25818 7 0x08000 ∷ drive 25908 7 0x00000 ∷ drive 25911 6 0x01300 ∷ drive 26061 6 0x05300 ∷ drive 26061 7 0x08000 ∷ drive 26151 7 0x00000 ∷ drive 26154 6 0x01300 ∷ drive 26304 6 0x05300 ∷ drive 26304 7 0x08000 ∷ drive 26394 7 0x00000 ∷ drive 26397 6 0x01300 ∷ drive 26547 6 0x05300 ∷ drive 26547 7 0x08000 ∷ drive 26637 7 0x00000 ∷ drive 26640 6 0x01300 ∷ drive 26790 6 0x05300 ∷ drive 26790 7 0x08000 ∷ drive 26880 7 0x00000 ∷ drive 26883 6 0x01300 ∷ drive 27033 6 0x05300 ∷ drive 27033 7 0x08000 ∷ drive 27123 7 0x00000 ∷ drive 27126 6 0x01300 ∷ drive 27276 6 0x05300 ∷ drive 27276 7 0x08000 ∷ drive 27366 7 0x00000 ∷ drive 27369 6 0x01300 ∷ drive 27519 6 0x05300 ∷ drive 27519 7 0x08000 ∷ drive 27609 7 0x00000 ∷ drive 27612 6 0x01300 ∷ drive 27762 6 0x05300 ∷ drive 27762 7 0x08000 ∷ drive 27852 7 0x00000 ∷ drive 27855 6 0x01300 ∷ drive 28005 6 0x05300 ∷ drive 28005 7 0x08000 ∷ drive 28095 7 0x00000 ∷ drive 28098 6 0x01300 ∷ drive 28248 6 0x05300 ∷ drive 28248 7 0x08000 ∷ drive 28338 7 0x00000 ∷ drive 28341 6 0x01300 ∷ drive 28491 6 0x05300 ∷ drive 28491 7 0x08000 ∷ drive 28581 7 0x00000 ∷ drive 28584 6 0x01300 ∷ drive 28734 6 0x05300 ∷ drive 28734 7 0x08000 ∷ drive 28824 7 0x00000 ∷ drive 28827 6 0x01300 ∷ drive 28977 6 0x05300 ∷ drive 28977 7 0x08000 ∷ drive 29067 7 0x00000 ∷ drive 29070 6 0x01300 ∷ drive 29220 6 0x05300 ∷ drive 29220 7 0x08000 ∷ drive 29310 7 0x00000 ∷ drive 29313 6 0x01300 ∷ drive 29323 6 0x01200 ∷ drive 29323 6 0x01b00 ∷ drive 29726 6 0x05b00 ∷ drive 29726 7 0x08000 ∷ drive 29729 6 0x01a00 ∷ drive 29729 7 0x00000 ∷ drive 29732 6 0x03b00 ∷ drive 30135 6 0x07b00 ∷ drive 30135 7 0x08000 ∷ drive 30138 6 0x03a00 ∷ drive 30138 7 0x00000 ∷ drive 30141 6 0x00000 ∷ []

abbrev burst_without_tags_due_events : List Event
burst_without_tags_due_events = events.Accept (command 1) ∷ events.Run (command 1) ∷ events.End (command 1) 0 ∷ []

abbrev pub burst_without_tags_due_shown : Shows
burst_without_tags_due_shown = record { rows = reverse burst_without_tags_due_rows; history = reverse burst_without_tags_due_events; ended = true }

-- ---- command_given_up_due

abbrev pub command_given_up_due : ScenarioValue
command_given_up_due = record {
  version = 1;
  hosts = record { dev = 5; latency = 1; most = 1; retries = 2; period = 0; offset = 0; lag = 0; offers = true } ∷ [];
  targets = record { dev = 3; latency = 8; retries = 0; disc = policies.Command; pick = picks.First; seek = 0; period = 0; offset = 0; begins = false } ∷ [];
  units = record { target = 3; unit = 0; blocks = 1; size = 16; depth = 1 } ∷ [];
  fills = [];
  tapes = [];
  loads = [];
  commands = record { host = 5; target = 3; unit = 0; at = 0; tag = tags.Ordered 9; cdb = (0 ∷ 0 ∷ 0 ∷ 0 ∷ 0 ∷ 0 ∷ []); payload = payloads.Nothing } ∷ [];
  aborts = [];
  resets = [];
  faults = record { at = 6531; bit = 2 } ∷ [];
}

abbrev pub command_given_up_due_rows : List Row
command_given_up_due_rows = drive 1201 5 0x00220 ∷ drive 3602 5 0x00620 ∷ drive 4803 5 0x10728 ∷ drive 4894 5 0x10528 ∷ drive 5302 3 0x00200 ∷ drive 5393 5 0x10000 ∷ drive 5401 3 0x02a00 ∷ drive 5809 3 0x06a00 ∷ drive 5810 5 0x101c0 ∷ drive 5866 5 0x181c0 ∷ drive 5874 3 0x02a00 ∷ drive 5875 5 0x10000 ∷ drive 5883 3 0x06a00 ∷ drive 5884 5 0x10122 ∷ drive 5940 5 0x18122 ∷ drive 5948 3 0x02a00 ∷ drive 5949 5 0x10000 ∷ drive 5957 3 0x06a00 ∷ drive 5958 5 0x00109 ∷ drive 6049 5 0x08109 ∷ drive 6057 3 0x02a00 ∷ drive 6058 5 0x00000 ∷ drive 6066 3 0x00a00 ∷ drive 6474 3 0x04a00 ∷ drive 6475 5 0x00100 ∷ drive 6531 5 0x08100 ∷ strike 6531 3 2 ∷ drive 6539 3 0x00a00 ∷ drive 6540 5 0x00000 ∷ drive 6548 3 0x01a00 ∷ drive 7356 3 0x01a02 ∷ drive 7419 3 0x05a02 ∷ drive 7420 5 0x08000 ∷ drive 7428 3 0x01a00 ∷ drive 7429 5 0x00000 ∷ drive 7437 3 0x03b00 ∷ drive 7845 3 0x07b00 ∷ drive 7846 5 0x08000 ∷ drive 7854 3 0x03a00 ∷ drive 7855 5 0x00000 ∷ drive 7863 3 0x00000 ∷ drive 9064 5 0x00220 ∷ drive 11465 5 0x00620 ∷ drive 12666 5 0x10728 ∷ drive 12757 5 0x10528 ∷ drive 13165 3 0x00200 ∷ drive 13256 5 0x10000 ∷ drive 13264 3 0x02a00 ∷ drive 13672 3 0x06a00 ∷ drive 13673 5 0x00080 ∷ drive 13764 5 0x08080 ∷ drive 13772 3 0x02a00 ∷ drive 13773 5 0x00000 ∷ drive 13781 3 0x00a00 ∷ drive 14189 3 0x04a00 ∷ drive 14190 5 0x00103 ∷ drive 14246 5 0x08103 ∷ drive 14254 3 0x00a00 ∷ drive 14255 5 0x00000 ∷ drive 14263 3 0x04a00 ∷ drive 14264 5 0x00100 ∷ drive 14320 5 0x08100 ∷ drive 14328 3 0x00a00 ∷ drive 14329 5 0x00000 ∷ drive 14337 3 0x04a00 ∷ drive 14338 5 0x00100 ∷ drive 14394 5 0x08100 ∷ drive 14402 3 0x00a00 ∷ drive 14403 5 0x00000 ∷ drive 14411 3 0x04a00 ∷ drive 14412 5 0x00100 ∷ drive 14468 5 0x08100 ∷ drive 14476 3 0x00a00 ∷ drive 14477 5 0x00000 ∷ drive 14485 3 0x04a00 ∷ drive 14486 5 0x00112 ∷ drive 14542 5 0x08112 ∷ drive 14550 3 0x00a00 ∷ drive 14551 5 0x00000 ∷ drive 14559 3 0x04a00 ∷ drive 14560 5 0x00100 ∷ drive 14616 5 0x08100 ∷ drive 14624 3 0x00a00 ∷ drive 14625 5 0x00000 ∷ drive 14633 3 0x01200 ∷ drive 15441 3 0x01270 ∷ drive 15504 3 0x05270 ∷ drive 15505 5 0x08000 ∷ drive 15513 3 0x01300 ∷ drive 15514 5 0x00000 ∷ drive 15576 3 0x05300 ∷ drive 15577 5 0x08000 ∷ drive 15585 3 0x0120b ∷ drive 15586 5 0x00000 ∷ drive 15648 3 0x0520b ∷ drive 15649 5 0x08000 ∷ drive 15657 3 0x01300 ∷ drive 15658 5 0x00000 ∷ drive 15720 3 0x05300 ∷ drive 15721 5 0x08000 ∷ drive 15729 3 0x01300 ∷ drive 15730 5 0x00000 ∷ drive 15792 3 0x05300 ∷ drive 15793 5 0x08000 ∷ drive 15801 3 0x01300 ∷ drive 15802 5 0x00000 ∷ drive 15864 3 0x05300 ∷ drive 15865 5 0x08000 ∷ drive 15873 3 0x01300 ∷ drive 15874 5 0x00000 ∷ drive 15936 3 0x05300 ∷ drive 15937 5 0x08000 ∷ drive 15945 3 0x0130a ∷ drive 15946 5 0x00000 ∷ drive 16008 3 0x0530a ∷ drive 16009 5 0x08000 ∷ drive 16017 3 0x01300 ∷ drive 16018 5 0x00000 ∷ drive 16080 3 0x05300 ∷ drive 16081 5 0x08000 ∷ drive 16089 3 0x01300 ∷ drive 16090 5 0x00000 ∷ drive 16152 3 0x05300 ∷ drive 16153 5 0x08000 ∷ drive 16161 3 0x01300 ∷ drive 16162 5 0x00000 ∷ drive 16224 3 0x05300 ∷ drive 16225 5 0x08000 ∷ drive 16233 3 0x01300 ∷ drive 16234 5 0x00000 ∷ drive 16296 3 0x05300 ∷ drive 16297 5 0x08000 ∷ drive 16305 3 0x01347 ∷ drive 16306 5 0x00000 ∷ drive 16368 3 0x05347 ∷ drive 16369 5 0x08000 ∷ drive 16377 3 0x01300 ∷ drive 16378 5 0x00000 ∷ drive 16440 3 0x05300 ∷ drive 16441 5 0x08000 ∷ drive 16449 3 0x01300 ∷ drive 16450 5 0x00000 ∷ drive 16512 3 0x05300 ∷ drive 16513 5 0x08000 ∷ drive 16521 3 0x01300 ∷ drive 16522 5 0x00000 ∷ drive 16584 3 0x05300 ∷ drive 16585 5 0x08000 ∷ drive 16593 3 0x01300 ∷ drive 16594 5 0x00000 ∷ drive 16656 3 0x05300 ∷ drive 16657 5 0x08000 ∷ drive 16665 3 0x01300 ∷ drive 16666 5 0x00000 ∷ drive 16728 3 0x05300 ∷ drive 16729 5 0x08000 ∷ drive 16737 3 0x01200 ∷ drive 16738 5 0x00000 ∷ drive 16746 3 0x01b00 ∷ drive 17154 3 0x05b00 ∷ drive 17155 5 0x08000 ∷ drive 17163 3 0x01a00 ∷ drive 17164 5 0x00000 ∷ drive 17172 3 0x03b00 ∷ drive 17580 3 0x07b00 ∷ drive 17581 5 0x08000 ∷ drive 17589 3 0x03a00 ∷ drive 17590 5 0x00000 ∷ drive 17598 3 0x00000 ∷ []

abbrev command_given_up_due_events : List Event
command_given_up_due_events = events.Fail (command 1) 71 ∷ events.End (command 1) 2 ∷ events.Accept (sense 1) ∷ events.Run (sense 1) ∷ events.End (sense 1) 0 ∷ []

abbrev pub command_given_up_due_shown : Shows
command_given_up_due_shown = record { rows = reverse command_given_up_due_rows; history = reverse command_given_up_due_events; ended = true }

-- ---- command_struck_twice_due

abbrev pub command_struck_twice_due : ScenarioValue
command_struck_twice_due = record {
  version = 1;
  hosts = record { dev = 6; latency = 0; most = 1; retries = 2; period = 0; offset = 0; lag = 0; offers = true } ∷ [];
  targets = record { dev = 3; latency = 30; retries = 2; disc = policies.Never; pick = picks.First; seek = 0; period = 0; offset = 0; begins = false } ∷ [];
  units = record { target = 3; unit = 0; blocks = 1; size = 16; depth = 1 } ∷ [];
  fills = [];
  tapes = [];
  loads = [];
  commands = record { host = 6; target = 3; unit = 0; at = 0; tag = tags.Untagged; cdb = (37 ∷ 0 ∷ 0 ∷ 0 ∷ 0 ∷ 0 ∷ 0 ∷ 0 ∷ 0 ∷ 0 ∷ []); payload = payloads.Nothing } ∷ [];
  aborts = [];
  resets = [];
  faults = record { at = 6965; bit = 0 } ∷ record { at = 9520; bit = 6 } ∷ [];
}

abbrev pub command_struck_twice_due_rows : List Row
command_struck_twice_due_rows = drive 1200 6 0x00240 ∷ drive 3600 6 0x00640 ∷ drive 4800 6 0x10748 ∷ drive 4890 6 0x10548 ∷ drive 5320 3 0x00200 ∷ drive 5410 6 0x10000 ∷ drive 5440 3 0x02a00 ∷ drive 5870 3 0x06a00 ∷ drive 5870 6 0x001c0 ∷ drive 5960 6 0x081c0 ∷ drive 5990 3 0x02a00 ∷ drive 5990 6 0x00000 ∷ drive 6020 3 0x00a00 ∷ drive 6450 3 0x04a00 ∷ drive 6450 6 0x00025 ∷ drive 6505 6 0x08025 ∷ drive 6535 3 0x00a00 ∷ drive 6535 6 0x00000 ∷ drive 6565 3 0x04a00 ∷ drive 6565 6 0x00100 ∷ drive 6620 6 0x08100 ∷ drive 6650 3 0x00a00 ∷ drive 6650 6 0x00000 ∷ drive 6680 3 0x04a00 ∷ drive 6680 6 0x00100 ∷ drive 6735 6 0x08100 ∷ drive 6765 3 0x00a00 ∷ drive 6765 6 0x00000 ∷ drive 6795 3 0x04a00 ∷ drive 6795 6 0x00100 ∷ drive 6850 6 0x08100 ∷ drive 6880 3 0x00a00 ∷ drive 6880 6 0x00000 ∷ drive 6910 3 0x04a00 ∷ drive 6910 6 0x00100 ∷ drive 6965 6 0x08100 ∷ strike 6965 3 0 ∷ drive 6995 3 0x00a00 ∷ drive 6995 6 0x00000 ∷ drive 7025 3 0x03a00 ∷ drive 7855 3 0x03b03 ∷ drive 7940 3 0x07b03 ∷ drive 7940 6 0x08000 ∷ drive 7970 3 0x03a00 ∷ drive 7970 6 0x00000 ∷ drive 8000 3 0x00a00 ∷ drive 8430 3 0x04a00 ∷ drive 8430 6 0x00025 ∷ drive 8485 6 0x08025 ∷ drive 8515 3 0x00a00 ∷ drive 8515 6 0x00000 ∷ drive 8545 3 0x04a00 ∷ drive 8545 6 0x00100 ∷ drive 8600 6 0x08100 ∷ drive 8630 3 0x00a00 ∷ drive 8630 6 0x00000 ∷ drive 8660 3 0x04a00 ∷ drive 8660 6 0x00100 ∷ drive 8715 6 0x08100 ∷ drive 8745 3 0x00a00 ∷ drive 8745 6 0x00000 ∷ drive 8775 3 0x04a00 ∷ drive 8775 6 0x00100 ∷ drive 8830 6 0x08100 ∷ drive 8860 3 0x00a00 ∷ drive 8860 6 0x00000 ∷ drive 8890 3 0x04a00 ∷ drive 8890 6 0x00100 ∷ drive 8945 6 0x08100 ∷ drive 8975 3 0x00a00 ∷ drive 8975 6 0x00000 ∷ drive 9005 3 0x04a00 ∷ drive 9005 6 0x00100 ∷ drive 9060 6 0x08100 ∷ drive 9090 3 0x00a00 ∷ drive 9090 6 0x00000 ∷ drive 9120 3 0x04a00 ∷ drive 9120 6 0x00100 ∷ drive 9175 6 0x08100 ∷ drive 9205 3 0x00a00 ∷ drive 9205 6 0x00000 ∷ drive 9235 3 0x04a00 ∷ drive 9235 6 0x00100 ∷ drive 9290 6 0x08100 ∷ drive 9320 3 0x00a00 ∷ drive 9320 6 0x00000 ∷ drive 9350 3 0x04a00 ∷ drive 9350 6 0x00100 ∷ drive 9405 6 0x08100 ∷ drive 9435 3 0x00a00 ∷ drive 9435 6 0x00000 ∷ drive 9465 3 0x04a00 ∷ drive 9465 6 0x00100 ∷ drive 9520 6 0x08100 ∷ strike 9520 3 6 ∷ drive 9550 3 0x00a00 ∷ drive 9550 6 0x00000 ∷ drive 9580 3 0x03a00 ∷ drive 10410 3 0x03b03 ∷ drive 10495 3 0x07b03 ∷ drive 10495 6 0x08000 ∷ drive 10525 3 0x03a00 ∷ drive 10525 6 0x00000 ∷ drive 10555 3 0x00a00 ∷ drive 10985 3 0x04a00 ∷ drive 10985 6 0x00025 ∷ drive 11040 6 0x08025 ∷ drive 11070 3 0x00a00 ∷ drive 11070 6 0x00000 ∷ drive 11100 3 0x04a00 ∷ drive 11100 6 0x00100 ∷ drive 11155 6 0x08100 ∷ drive 11185 3 0x00a00 ∷ drive 11185 6 0x00000 ∷ drive 11215 3 0x04a00 ∷ drive 11215 6 0x00100 ∷ drive 11270 6 0x08100 ∷ drive 11300 3 0x00a00 ∷ drive 11300 6 0x00000 ∷ drive 11330 3 0x04a00 ∷ drive 11330 6 0x00100 ∷ drive 11385 6 0x08100 ∷ drive 11415 3 0x00a00 ∷ drive 11415 6 0x00000 ∷ drive 11445 3 0x04a00 ∷ drive 11445 6 0x00100 ∷ drive 11500 6 0x08100 ∷ drive 11530 3 0x00a00 ∷ drive 11530 6 0x00000 ∷ drive 11560 3 0x04a00 ∷ drive 11560 6 0x00100 ∷ drive 11615 6 0x08100 ∷ drive 11645 3 0x00a00 ∷ drive 11645 6 0x00000 ∷ drive 11675 3 0x04a00 ∷ drive 11675 6 0x00100 ∷ drive 11730 6 0x08100 ∷ drive 11760 3 0x00a00 ∷ drive 11760 6 0x00000 ∷ drive 11790 3 0x04a00 ∷ drive 11790 6 0x00100 ∷ drive 11845 6 0x08100 ∷ drive 11875 3 0x00a00 ∷ drive 11875 6 0x00000 ∷ drive 11905 3 0x04a00 ∷ drive 11905 6 0x00100 ∷ drive 11960 6 0x08100 ∷ drive 11990 3 0x00a00 ∷ drive 11990 6 0x00000 ∷ drive 12020 3 0x04a00 ∷ drive 12020 6 0x00100 ∷ drive 12075 6 0x08100 ∷ drive 12105 3 0x00a00 ∷ drive 12105 6 0x00000 ∷ drive 12135 3 0x01200 ∷ drive 12965 3 0x01300 ∷ drive 13050 3 0x05300 ∷ drive 13050 6 0x08000 ∷ drive 13080 3 0x01300 ∷ drive 13080 6 0x00000 ∷ drive 13165 3 0x05300 ∷ drive 13165 6 0x08000 ∷ drive 13195 3 0x01300 ∷ drive 13195 6 0x00000 ∷ drive 13280 3 0x05300 ∷ drive 13280 6 0x08000 ∷ drive 13310 3 0x01300 ∷ drive 13310 6 0x00000 ∷ drive 13395 3 0x05300 ∷ drive 13395 6 0x08000 ∷ drive 13425 3 0x01300 ∷ drive 13425 6 0x00000 ∷ drive 13510 3 0x05300 ∷ drive 13510 6 0x08000 ∷ drive 13540 3 0x01300 ∷ drive 13540 6 0x00000 ∷ drive 13625 3 0x05300 ∷ drive 13625 6 0x08000 ∷ drive 13655 3 0x01300 ∷ drive 13655 6 0x00000 ∷ drive 13740 3 0x05300 ∷ drive 13740 6 0x08000 ∷ drive 13770 3 0x01210 ∷ drive 13770 6 0x00000 ∷ drive 13855 3 0x05210 ∷ drive 13855 6 0x08000 ∷ drive 13885 3 0x01200 ∷ drive 13885 6 0x00000 ∷ drive 13915 3 0x01b00 ∷ drive 14345 3 0x05b00 ∷ drive 14345 6 0x08000 ∷ drive 14375 3 0x01a00 ∷ drive 14375 6 0x00000 ∷ drive 14405 3 0x03b00 ∷ drive 14835 3 0x07b00 ∷ drive 14835 6 0x08000 ∷ drive 14865 3 0x03a00 ∷ drive 14865 6 0x00000 ∷ drive 14895 3 0x00000 ∷ []

abbrev command_struck_twice_due_events : List Event
command_struck_twice_due_events = events.Accept (command 1) ∷ events.Run (command 1) ∷ events.End (command 1) 0 ∷ []

abbrev pub command_struck_twice_due_shown : Shows
command_struck_twice_due_shown = record { rows = reverse command_struck_twice_due_rows; history = reverse command_struck_twice_due_events; ended = true }

-- ---- complete_struck_due

abbrev pub complete_struck_due : ScenarioValue
complete_struck_due = record {
  version = 1;
  hosts = record { dev = 2; latency = 0; most = 1; retries = 2; period = 0; offset = 0; lag = 0; offers = true } ∷ [];
  targets = record { dev = 4; latency = 60; retries = 3; disc = policies.Never; pick = picks.First; seek = 0; period = 0; offset = 0; begins = false } ∷ [];
  units = record { target = 4; unit = 7; blocks = 1; size = 16; depth = 1 } ∷ [];
  fills = [];
  tapes = [];
  loads = [];
  commands = record { host = 2; target = 4; unit = 7; at = 0; tag = tags.Head 255; cdb = (0 ∷ 0 ∷ 0 ∷ 0 ∷ 0 ∷ 0 ∷ []); payload = payloads.Nothing } ∷ [];
  aborts = [];
  resets = [];
  faults = record { at = 9585; bit = 7 } ∷ record { at = 10285; bit = 0 } ∷ record { at = 11555; bit = 5 } ∷ [];
}

abbrev pub complete_struck_due_rows : List Row
complete_struck_due_rows = drive 1200 2 0x00204 ∷ drive 3600 2 0x00604 ∷ drive 4800 2 0x10714 ∷ drive 4890 2 0x10514 ∷ drive 5350 4 0x00200 ∷ drive 5440 2 0x10000 ∷ drive 5500 4 0x02a00 ∷ drive 5960 4 0x06a00 ∷ drive 5960 2 0x100c7 ∷ drive 6015 2 0x180c7 ∷ drive 6075 4 0x02a00 ∷ drive 6075 2 0x10000 ∷ drive 6135 4 0x06a00 ∷ drive 6135 2 0x10121 ∷ drive 6190 2 0x18121 ∷ drive 6250 4 0x02a00 ∷ drive 6250 2 0x10000 ∷ drive 6310 4 0x06a00 ∷ drive 6310 2 0x001ff ∷ drive 6400 2 0x081ff ∷ drive 6460 4 0x02a00 ∷ drive 6460 2 0x00000 ∷ drive 6520 4 0x00a00 ∷ drive 6980 4 0x04a00 ∷ drive 6980 2 0x00100 ∷ drive 7035 2 0x08100 ∷ drive 7095 4 0x00a00 ∷ drive 7095 2 0x00000 ∷ drive 7155 4 0x04a00 ∷ drive 7155 2 0x00100 ∷ drive 7210 2 0x08100 ∷ drive 7270 4 0x00a00 ∷ drive 7270 2 0x00000 ∷ drive 7330 4 0x04a00 ∷ drive 7330 2 0x00100 ∷ drive 7385 2 0x08100 ∷ drive 7445 4 0x00a00 ∷ drive 7445 2 0x00000 ∷ drive 7505 4 0x04a00 ∷ drive 7505 2 0x00100 ∷ drive 7560 2 0x08100 ∷ drive 7620 4 0x00a00 ∷ drive 7620 2 0x00000 ∷ drive 7680 4 0x04a00 ∷ drive 7680 2 0x00100 ∷ drive 7735 2 0x08100 ∷ drive 7795 4 0x00a00 ∷ drive 7795 2 0x00000 ∷ drive 7855 4 0x04a00 ∷ drive 7855 2 0x00100 ∷ drive 7910 2 0x08100 ∷ drive 7970 4 0x00a00 ∷ drive 7970 2 0x00000 ∷ drive 8030 4 0x01a00 ∷ drive 8890 4 0x01b00 ∷ drive 9005 4 0x05b00 ∷ drive 9005 2 0x08000 ∷ drive 9065 4 0x01a00 ∷ drive 9065 2 0x00000 ∷ drive 9125 4 0x03b00 ∷ drive 9585 4 0x07b00 ∷ strike 9585 2 7 ∷ drive 9585 2 0x18000 ∷ drive 9645 4 0x03a00 ∷ drive 9675 2 0x10000 ∷ drive 9735 4 0x02a00 ∷ drive 10195 4 0x06a00 ∷ drive 10195 2 0x00109 ∷ drive 10285 2 0x08109 ∷ strike 10285 4 0 ∷ drive 10345 4 0x02a00 ∷ drive 10345 2 0x00000 ∷ drive 10405 4 0x06a00 ∷ drive 10405 2 0x00109 ∷ drive 10460 2 0x08109 ∷ drive 10520 4 0x02a00 ∷ drive 10520 2 0x00000 ∷ drive 10580 4 0x03a00 ∷ drive 11440 4 0x03b00 ∷ drive 11555 4 0x07b00 ∷ strike 11555 2 5 ∷ drive 11555 2 0x18000 ∷ drive 11615 4 0x03a00 ∷ drive 11645 2 0x10000 ∷ drive 11705 4 0x02a00 ∷ drive 12165 4 0x06a00 ∷ drive 12165 2 0x00109 ∷ drive 12255 2 0x08109 ∷ drive 12315 4 0x02a00 ∷ drive 12315 2 0x00000 ∷ drive 12375 4 0x03a00 ∷ drive 13235 4 0x03b00 ∷ drive 13350 4 0x07b00 ∷ drive 13350 2 0x08000 ∷ drive 13410 4 0x03a00 ∷ drive 13410 2 0x00000 ∷ drive 13470 4 0x00000 ∷ []

abbrev complete_struck_due_events : List Event
complete_struck_due_events = events.Accept (command 1) ∷ events.Run (command 1) ∷ events.End (command 1) 0 ∷ []

abbrev pub complete_struck_due_shown : Shows
complete_struck_due_shown = record { rows = reverse complete_struck_due_rows; history = reverse complete_struck_due_events; ended = true }

-- ---- counted_due

abbrev pub counted_due : ScenarioValue
counted_due = record {
  version = 1;
  hosts = record { dev = 7; latency = 0; most = 1; retries = 2; period = 0; offset = 0; lag = 0; offers = true } ∷ [];
  targets = record { dev = 0; latency = 10; retries = 1; disc = policies.Never; pick = picks.First; seek = 0; period = 0; offset = 0; begins = false } ∷ [];
  units = record { target = 0; unit = 0; blocks = 1; size = 16; depth = 1 } ∷ [];
  fills = [];
  tapes = [];
  loads = [];
  commands = record { host = 7; target = 0; unit = 0; at = 0; tag = tags.Untagged; cdb = (0 ∷ 0 ∷ 0 ∷ 0 ∷ 0 ∷ 0 ∷ []); payload = payloads.Nothing } ∷ record { host = 7; target = 0; unit = 0; at = 0; tag = tags.Untagged; cdb = (18 ∷ 0 ∷ 0 ∷ 0 ∷ 1 ∷ 0 ∷ []); payload = payloads.Nothing } ∷ [];
  aborts = [];
  resets = [];
  faults = record { at = 6535; bit = 0 } ∷ record { at = 7990; bit = 7 } ∷ [];
}

abbrev pub counted_due_rows : List Row
counted_due_rows = drive 1200 7 0x00280 ∷ drive 3600 7 0x00680 ∷ drive 4800 7 0x10781 ∷ drive 4890 7 0x10581 ∷ drive 5300 0 0x00200 ∷ drive 5390 7 0x10000 ∷ drive 5400 0 0x02a00 ∷ drive 5810 0 0x06a00 ∷ drive 5810 7 0x001c0 ∷ drive 5900 7 0x081c0 ∷ drive 5910 0 0x02a00 ∷ drive 5910 7 0x00000 ∷ drive 5920 0 0x00a00 ∷ drive 6330 0 0x04a00 ∷ drive 6330 7 0x00100 ∷ drive 6385 7 0x08100 ∷ drive 6395 0 0x00a00 ∷ drive 6395 7 0x00000 ∷ drive 6405 0 0x04a00 ∷ drive 6405 7 0x00100 ∷ drive 6460 7 0x08100 ∷ drive 6470 0 0x00a00 ∷ drive 6470 7 0x00000 ∷ drive 6480 0 0x04a00 ∷ drive 6480 7 0x00100 ∷ drive 6535 7 0x08100 ∷ strike 6535 0 0 ∷ drive 6545 0 0x00a00 ∷ drive 6545 7 0x00000 ∷ drive 6555 0 0x03a00 ∷ drive 7365 0 0x03b03 ∷ drive 7430 0 0x07b03 ∷ drive 7430 7 0x08000 ∷ drive 7440 0 0x03a00 ∷ drive 7440 7 0x00000 ∷ drive 7450 0 0x00a00 ∷ drive 7860 0 0x04a00 ∷ drive 7860 7 0x00100 ∷ drive 7915 7 0x08100 ∷ drive 7925 0 0x00a00 ∷ drive 7925 7 0x00000 ∷ drive 7935 0 0x04a00 ∷ drive 7935 7 0x00100 ∷ drive 7990 7 0x08100 ∷ strike 7990 0 7 ∷ drive 8000 0 0x00a00 ∷ drive 8000 7 0x00000 ∷ drive 8010 0 0x01a00 ∷ drive 8820 0 0x01a02 ∷ drive 8885 0 0x05a02 ∷ drive 8885 7 0x08000 ∷ drive 8895 0 0x01a00 ∷ drive 8895 7 0x00000 ∷ drive 8905 0 0x03b00 ∷ drive 9315 0 0x07b00 ∷ drive 9315 7 0x08000 ∷ drive 9325 0 0x03a00 ∷ drive 9325 7 0x00000 ∷ drive 9335 0 0x00000 ∷ drive 10535 7 0x00280 ∷ drive 12935 7 0x00680 ∷ drive 14135 7 0x10781 ∷ drive 14225 7 0x10581 ∷ drive 14635 0 0x00200 ∷ drive 14725 7 0x10000 ∷ drive 14735 0 0x02a00 ∷ drive 15145 0 0x06a00 ∷ drive 15145 7 0x00080 ∷ drive 15235 7 0x08080 ∷ drive 15245 0 0x02a00 ∷ drive 15245 7 0x00000 ∷ drive 15255 0 0x00a00 ∷ drive 15665 0 0x04a00 ∷ drive 15665 7 0x00103 ∷ drive 15720 7 0x08103 ∷ drive 15730 0 0x00a00 ∷ drive 15730 7 0x00000 ∷ drive 15740 0 0x04a00 ∷ drive 15740 7 0x00100 ∷ drive 15795 7 0x08100 ∷ drive 15805 0 0x00a00 ∷ drive 15805 7 0x00000 ∷ drive 15815 0 0x04a00 ∷ drive 15815 7 0x00100 ∷ drive 15870 7 0x08100 ∷ drive 15880 0 0x00a00 ∷ drive 15880 7 0x00000 ∷ drive 15890 0 0x04a00 ∷ drive 15890 7 0x00100 ∷ drive 15945 7 0x08100 ∷ drive 15955 0 0x00a00 ∷ drive 15955 7 0x00000 ∷ drive 15965 0 0x04a00 ∷ drive 15965 7 0x00112 ∷ drive 16020 7 0x08112 ∷ drive 16030 0 0x00a00 ∷ drive 16030 7 0x00000 ∷ drive 16040 0 0x04a00 ∷ drive 16040 7 0x00100 ∷ drive 16095 7 0x08100 ∷ drive 16105 0 0x00a00 ∷ drive 16105 7 0x00000 ∷ drive 16115 0 0x01200 ∷ drive 16925 0 0x01270 ∷ drive 16990 0 0x05270 ∷ drive 16990 7 0x08000 ∷ drive 17000 0 0x01300 ∷ drive 17000 7 0x00000 ∷ drive 17065 0 0x05300 ∷ drive 17065 7 0x08000 ∷ drive 17075 0 0x0120b ∷ drive 17075 7 0x00000 ∷ drive 17140 0 0x0520b ∷ drive 17140 7 0x08000 ∷ drive 17150 0 0x01300 ∷ drive 17150 7 0x00000 ∷ drive 17215 0 0x05300 ∷ drive 17215 7 0x08000 ∷ drive 17225 0 0x01300 ∷ drive 17225 7 0x00000 ∷ drive 17290 0 0x05300 ∷ drive 17290 7 0x08000 ∷ drive 17300 0 0x01300 ∷ drive 17300 7 0x00000 ∷ drive 17365 0 0x05300 ∷ drive 17365 7 0x08000 ∷ drive 17375 0 0x01300 ∷ drive 17375 7 0x00000 ∷ drive 17440 0 0x05300 ∷ drive 17440 7 0x08000 ∷ drive 17450 0 0x0130a ∷ drive 17450 7 0x00000 ∷ drive 17515 0 0x0530a ∷ drive 17515 7 0x08000 ∷ drive 17525 0 0x01300 ∷ drive 17525 7 0x00000 ∷ drive 17590 0 0x05300 ∷ drive 17590 7 0x08000 ∷ drive 17600 0 0x01300 ∷ drive 17600 7 0x00000 ∷ drive 17665 0 0x05300 ∷ drive 17665 7 0x08000 ∷ drive 17675 0 0x01300 ∷ drive 17675 7 0x00000 ∷ drive 17740 0 0x05300 ∷ drive 17740 7 0x08000 ∷ drive 17750 0 0x01300 ∷ drive 17750 7 0x00000 ∷ drive 17815 0 0x05300 ∷ drive 17815 7 0x08000 ∷ drive 17825 0 0x01347 ∷ drive 17825 7 0x00000 ∷ drive 17890 0 0x05347 ∷ drive 17890 7 0x08000 ∷ drive 17900 0 0x01300 ∷ drive 17900 7 0x00000 ∷ drive 17965 0 0x05300 ∷ drive 17965 7 0x08000 ∷ drive 17975 0 0x01300 ∷ drive 17975 7 0x00000 ∷ drive 18040 0 0x05300 ∷ drive 18040 7 0x08000 ∷ drive 18050 0 0x01300 ∷ drive 18050 7 0x00000 ∷ drive 18115 0 0x05300 ∷ drive 18115 7 0x08000 ∷ drive 18125 0 0x01300 ∷ drive 18125 7 0x00000 ∷ drive 18190 0 0x05300 ∷ drive 18190 7 0x08000 ∷ drive 18200 0 0x01300 ∷ drive 18200 7 0x00000 ∷ drive 18265 0 0x05300 ∷ drive 18265 7 0x08000 ∷ drive 18275 0 0x01200 ∷ drive 18275 7 0x00000 ∷ drive 18285 0 0x01b00 ∷ drive 18695 0 0x05b00 ∷ drive 18695 7 0x08000 ∷ drive 18705 0 0x01a00 ∷ drive 18705 7 0x00000 ∷ drive 18715 0 0x03b00 ∷ drive 19125 0 0x07b00 ∷ drive 19125 7 0x08000 ∷ drive 19135 0 0x03a00 ∷ drive 19135 7 0x00000 ∷ drive 19145 0 0x00000 ∷ drive 20345 7 0x00280 ∷ drive 22745 7 0x00680 ∷ drive 23945 7 0x10781 ∷ drive 24035 7 0x10581 ∷ drive 24445 0 0x00200 ∷ drive 24535 7 0x10000 ∷ drive 24545 0 0x02a00 ∷ drive 24955 0 0x06a00 ∷ drive 24955 7 0x001c0 ∷ drive 25045 7 0x081c0 ∷ drive 25055 0 0x02a00 ∷ drive 25055 7 0x00000 ∷ drive 25065 0 0x00a00 ∷ drive 25475 0 0x04a00 ∷ drive 25475 7 0x00112 ∷ drive 25530 7 0x08112 ∷ drive 25540 0 0x00a00 ∷ drive 25540 7 0x00000 ∷ drive 25550 0 0x04a00 ∷ drive 25550 7 0x00100 ∷ drive 25605 7 0x08100 ∷ drive 25615 0 0x00a00 ∷ drive 25615 7 0x00000 ∷ drive 25625 0 0x04a00 ∷ drive 25625 7 0x00100 ∷ drive 25680 7 0x08100 ∷ drive 25690 0 0x00a00 ∷ drive 25690 7 0x00000 ∷ drive 25700 0 0x04a00 ∷ drive 25700 7 0x00100 ∷ drive 25755 7 0x08100 ∷ drive 25765 0 0x00a00 ∷ drive 25765 7 0x00000 ∷ drive 25775 0 0x04a00 ∷ drive 25775 7 0x00001 ∷ drive 25830 7 0x08001 ∷ drive 25840 0 0x00a00 ∷ drive 25840 7 0x00000 ∷ drive 25850 0 0x04a00 ∷ drive 25850 7 0x00100 ∷ drive 25905 7 0x08100 ∷ drive 25915 0 0x00a00 ∷ drive 25915 7 0x00000 ∷ drive 25925 0 0x01200 ∷ drive 26735 0 0x01300 ∷ drive 26800 0 0x05300 ∷ drive 26800 7 0x08000 ∷ drive 26810 0 0x01200 ∷ drive 26810 7 0x00000 ∷ drive 26820 0 0x01b00 ∷ drive 27230 0 0x05b00 ∷ drive 27230 7 0x08000 ∷ drive 27240 0 0x01a00 ∷ drive 27240 7 0x00000 ∷ drive 27250 0 0x03b00 ∷ drive 27660 0 0x07b00 ∷ drive 27660 7 0x08000 ∷ drive 27670 0 0x03a00 ∷ drive 27670 7 0x00000 ∷ drive 27680 0 0x00000 ∷ []

abbrev counted_due_events : List Event
counted_due_events = events.Fail (command 1) 71 ∷ events.End (command 1) 2 ∷ events.Accept (sense 1) ∷ events.Run (sense 1) ∷ events.End (sense 1) 0 ∷ events.Accept (command 2) ∷ events.Run (command 2) ∷ events.End (command 2) 0 ∷ []

abbrev pub counted_due_shown : Shows
counted_due_shown = record { rows = reverse counted_due_rows; history = reverse counted_due_events; ended = true }

-- ---- data_in_given_up_due

abbrev pub data_in_given_up_due : ScenarioValue
data_in_given_up_due = record {
  version = 1;
  hosts = record { dev = 7; latency = 3; most = 1; retries = 2; period = 0; offset = 0; lag = 0; offers = true } ∷ [];
  targets = record { dev = 4; latency = 0; retries = 0; disc = policies.Never; pick = picks.First; seek = 0; period = 0; offset = 0; begins = false } ∷ [];
  units = record { target = 4; unit = 0; blocks = 1; size = 16; depth = 1 } ∷ [];
  fills = [];
  tapes = [];
  loads = [];
  commands = record { host = 7; target = 4; unit = 0; at = 0; tag = tags.Untagged; cdb = (18 ∷ 0 ∷ 0 ∷ 0 ∷ 2 ∷ 0 ∷ []); payload = payloads.Nothing } ∷ [];
  aborts = [];
  resets = [];
  faults = record { at = 7591; bit = 5 } ∷ [];
}

abbrev pub data_in_given_up_due_rows : List Row
data_in_given_up_due_rows = drive 1203 7 0x00280 ∷ drive 3606 7 0x00680 ∷ drive 4809 7 0x10790 ∷ drive 4902 7 0x10590 ∷ drive 5302 4 0x00200 ∷ drive 5395 7 0x10000 ∷ drive 5395 4 0x02a00 ∷ drive 5795 4 0x06a00 ∷ drive 5798 7 0x001c0 ∷ drive 5891 7 0x081c0 ∷ drive 5891 4 0x02a00 ∷ drive 5894 7 0x00000 ∷ drive 5894 4 0x00a00 ∷ drive 6294 4 0x04a00 ∷ drive 6297 7 0x00112 ∷ drive 6355 7 0x08112 ∷ drive 6355 4 0x00a00 ∷ drive 6358 7 0x00000 ∷ drive 6358 4 0x04a00 ∷ drive 6361 7 0x00100 ∷ drive 6419 7 0x08100 ∷ drive 6419 4 0x00a00 ∷ drive 6422 7 0x00000 ∷ drive 6422 4 0x04a00 ∷ drive 6425 7 0x00100 ∷ drive 6483 7 0x08100 ∷ drive 6483 4 0x00a00 ∷ drive 6486 7 0x00000 ∷ drive 6486 4 0x04a00 ∷ drive 6489 7 0x00100 ∷ drive 6547 7 0x08100 ∷ drive 6547 4 0x00a00 ∷ drive 6550 7 0x00000 ∷ drive 6550 4 0x04a00 ∷ drive 6553 7 0x00002 ∷ drive 6611 7 0x08002 ∷ drive 6611 4 0x00a00 ∷ drive 6614 7 0x00000 ∷ drive 6614 4 0x04a00 ∷ drive 6617 7 0x00100 ∷ drive 6675 7 0x08100 ∷ drive 6675 4 0x00a00 ∷ drive 6678 7 0x00000 ∷ drive 6678 4 0x01200 ∷ drive 7478 4 0x01300 ∷ drive 7533 4 0x05300 ∷ drive 7536 7 0x08000 ∷ drive 7536 4 0x01300 ∷ drive 7539 7 0x00000 ∷ drive 7591 4 0x05300 ∷ strike 7591 7 5 ∷ drive 7594 7 0x18000 ∷ drive 7594 4 0x01200 ∷ drive 7687 7 0x10000 ∷ drive 7687 4 0x02a00 ∷ drive 8087 4 0x06a00 ∷ drive 8090 7 0x00105 ∷ drive 8183 7 0x08105 ∷ drive 8183 4 0x02a00 ∷ drive 8186 7 0x00000 ∷ drive 8186 4 0x01a00 ∷ drive 8986 4 0x01a02 ∷ drive 9041 4 0x05a02 ∷ drive 9044 7 0x08000 ∷ drive 9044 4 0x01a00 ∷ drive 9047 7 0x00000 ∷ drive 9047 4 0x03b00 ∷ drive 9447 4 0x07b00 ∷ drive 9450 7 0x08000 ∷ drive 9450 4 0x03a00 ∷ drive 9453 7 0x00000 ∷ drive 9453 4 0x00000 ∷ drive 10656 7 0x00280 ∷ drive 13059 7 0x00680 ∷ drive 14262 7 0x10790 ∷ drive 14355 7 0x10590 ∷ drive 14755 4 0x00200 ∷ drive 14848 7 0x10000 ∷ drive 14848 4 0x02a00 ∷ drive 15248 4 0x06a00 ∷ drive 15251 7 0x00080 ∷ drive 15344 7 0x08080 ∷ drive 15344 4 0x02a00 ∷ drive 15347 7 0x00000 ∷ drive 15347 4 0x00a00 ∷ drive 15747 4 0x04a00 ∷ drive 15750 7 0x00103 ∷ drive 15808 7 0x08103 ∷ drive 15808 4 0x00a00 ∷ drive 15811 7 0x00000 ∷ drive 15811 4 0x04a00 ∷ drive 15814 7 0x00100 ∷ drive 15872 7 0x08100 ∷ drive 15872 4 0x00a00 ∷ drive 15875 7 0x00000 ∷ drive 15875 4 0x04a00 ∷ drive 15878 7 0x00100 ∷ drive 15936 7 0x08100 ∷ drive 15936 4 0x00a00 ∷ drive 15939 7 0x00000 ∷ drive 15939 4 0x04a00 ∷ drive 15942 7 0x00100 ∷ drive 16000 7 0x08100 ∷ drive 16000 4 0x00a00 ∷ drive 16003 7 0x00000 ∷ drive 16003 4 0x04a00 ∷ drive 16006 7 0x00112 ∷ drive 16064 7 0x08112 ∷ drive 16064 4 0x00a00 ∷ drive 16067 7 0x00000 ∷ drive 16067 4 0x04a00 ∷ drive 16070 7 0x00100 ∷ drive 16128 7 0x08100 ∷ drive 16128 4 0x00a00 ∷ drive 16131 7 0x00000 ∷ drive 16131 4 0x01200 ∷ drive 16931 4 0x01270 ∷ drive 16986 4 0x05270 ∷ drive 16989 7 0x08000 ∷ drive 16989 4 0x01300 ∷ drive 16992 7 0x00000 ∷ drive 17044 4 0x05300 ∷ drive 17047 7 0x08000 ∷ drive 17047 4 0x0120b ∷ drive 17050 7 0x00000 ∷ drive 17102 4 0x0520b ∷ drive 17105 7 0x08000 ∷ drive 17105 4 0x01300 ∷ drive 17108 7 0x00000 ∷ drive 17160 4 0x05300 ∷ drive 17163 7 0x08000 ∷ drive 17163 4 0x01300 ∷ drive 17166 7 0x00000 ∷ drive 17218 4 0x05300 ∷ drive 17221 7 0x08000 ∷ drive 17221 4 0x01300 ∷ drive 17224 7 0x00000 ∷ drive 17276 4 0x05300 ∷ drive 17279 7 0x08000 ∷ drive 17279 4 0x01300 ∷ drive 17282 7 0x00000 ∷ drive 17334 4 0x05300 ∷ drive 17337 7 0x08000 ∷ drive 17337 4 0x0130a ∷ drive 17340 7 0x00000 ∷ drive 17392 4 0x0530a ∷ drive 17395 7 0x08000 ∷ drive 17395 4 0x01300 ∷ drive 17398 7 0x00000 ∷ drive 17450 4 0x05300 ∷ drive 17453 7 0x08000 ∷ drive 17453 4 0x01300 ∷ drive 17456 7 0x00000 ∷ drive 17508 4 0x05300 ∷ drive 17511 7 0x08000 ∷ drive 17511 4 0x01300 ∷ drive 17514 7 0x00000 ∷ drive 17566 4 0x05300 ∷ drive 17569 7 0x08000 ∷ drive 17569 4 0x01300 ∷ drive 17572 7 0x00000 ∷ drive 17624 4 0x05300 ∷ drive 17627 7 0x08000 ∷ drive 17627 4 0x01348 ∷ drive 17630 7 0x00000 ∷ drive 17682 4 0x05348 ∷ drive 17685 7 0x08000 ∷ drive 17685 4 0x01300 ∷ drive 17688 7 0x00000 ∷ drive 17740 4 0x05300 ∷ drive 17743 7 0x08000 ∷ drive 17743 4 0x01300 ∷ drive 17746 7 0x00000 ∷ drive 17798 4 0x05300 ∷ drive 17801 7 0x08000 ∷ drive 17801 4 0x01300 ∷ drive 17804 7 0x00000 ∷ drive 17856 4 0x05300 ∷ drive 17859 7 0x08000 ∷ drive 17859 4 0x01300 ∷ drive 17862 7 0x00000 ∷ drive 17914 4 0x05300 ∷ drive 17917 7 0x08000 ∷ drive 17917 4 0x01300 ∷ drive 17920 7 0x00000 ∷ drive 17972 4 0x05300 ∷ drive 17975 7 0x08000 ∷ drive 17975 4 0x01200 ∷ drive 17978 7 0x00000 ∷ drive 17978 4 0x01b00 ∷ drive 18378 4 0x05b00 ∷ drive 18381 7 0x08000 ∷ drive 18381 4 0x01a00 ∷ drive 18384 7 0x00000 ∷ drive 18384 4 0x03b00 ∷ drive 18784 4 0x07b00 ∷ drive 18787 7 0x08000 ∷ drive 18787 4 0x03a00 ∷ drive 18790 7 0x00000 ∷ drive 18790 4 0x00000 ∷ []

abbrev data_in_given_up_due_events : List Event
data_in_given_up_due_events = events.Accept (command 1) ∷ events.Fail (command 1) 72 ∷ events.End (command 1) 2 ∷ events.Accept (sense 1) ∷ events.Run (sense 1) ∷ events.End (sense 1) 0 ∷ []

abbrev pub data_in_given_up_due_shown : Shows
data_in_given_up_due_shown = record { rows = reverse data_in_given_up_due_rows; history = reverse data_in_given_up_due_events; ended = true }

-- ---- data_out_given_up_due

abbrev pub data_out_given_up_due : ScenarioValue
data_out_given_up_due = record {
  version = 1;
  hosts = record { dev = 0; latency = 0; most = 1; retries = 2; period = 100; offset = 1; lag = 0; offers = true } ∷ [];
  targets = record { dev = 7; latency = 35; retries = 0; disc = policies.Never; pick = picks.First; seek = 0; period = 50; offset = 4; begins = false } ∷ [];
  units = record { target = 7; unit = 0; blocks = 1; size = 16; depth = 1 } ∷ [];
  fills = [];
  tapes = [];
  loads = [];
  commands = record { host = 0; target = 7; unit = 0; at = 0; tag = tags.Untagged; cdb = (10 ∷ 0 ∷ 0 ∷ 0 ∷ 1 ∷ 0 ∷ []); payload = payloads.From 248 } ∷ [];
  aborts = [];
  resets = record { dev = 7; at = 20000 } ∷ [];
  faults = record { at = 16365; bit = 8 } ∷ [];
}

abbrev pub data_out_given_up_due_rows : List Row
data_out_given_up_due_rows = drive 1200 0 0x00201 ∷ drive 3600 0 0x00601 ∷ drive 4800 0 0x10781 ∷ drive 4890 0 0x10581 ∷ drive 5325 7 0x00200 ∷ drive 5415 0 0x10000 ∷ drive 5450 7 0x02a00 ∷ drive 5885 7 0x06a00 ∷ drive 5885 0 0x101c0 ∷ drive 5940 0 0x181c0 ∷ drive 5975 7 0x02a00 ∷ drive 5975 0 0x10000 ∷ drive 6010 7 0x06a00 ∷ drive 6010 0 0x10001 ∷ drive 6065 0 0x18001 ∷ drive 6100 7 0x02a00 ∷ drive 6100 0 0x10000 ∷ drive 6135 7 0x06a00 ∷ drive 6135 0 0x10103 ∷ drive 6190 0 0x18103 ∷ drive 6225 7 0x02a00 ∷ drive 6225 0 0x10000 ∷ drive 6260 7 0x06a00 ∷ drive 6260 0 0x10001 ∷ drive 6315 0 0x18001 ∷ drive 6350 7 0x02a00 ∷ drive 6350 0 0x10000 ∷ drive 6385 7 0x06a00 ∷ drive 6385 0 0x10064 ∷ drive 6440 0 0x18064 ∷ drive 6475 7 0x02a00 ∷ drive 6475 0 0x10000 ∷ drive 6510 7 0x06a00 ∷ drive 6510 0 0x00001 ∷ drive 6600 0 0x08001 ∷ drive 6635 7 0x02a00 ∷ drive 6635 0 0x00000 ∷ drive 6670 7 0x03a00 ∷ drive 7505 7 0x03a01 ∷ drive 7595 7 0x07a01 ∷ drive 7595 0 0x08000 ∷ drive 7630 7 0x03b03 ∷ drive 7630 0 0x00000 ∷ drive 7720 7 0x07b03 ∷ drive 7720 0 0x08000 ∷ drive 7755 7 0x03a01 ∷ drive 7755 0 0x00000 ∷ drive 7845 7 0x07a01 ∷ drive 7845 0 0x08000 ∷ drive 7880 7 0x03a64 ∷ drive 7880 0 0x00000 ∷ drive 7970 7 0x07a64 ∷ drive 7970 0 0x08000 ∷ drive 8005 7 0x03a01 ∷ drive 8005 0 0x00000 ∷ drive 8095 7 0x07a01 ∷ drive 8095 0 0x08000 ∷ drive 8130 7 0x03a00 ∷ drive 8130 0 0x00000 ∷ drive 8165 7 0x00a00 ∷ drive 8600 7 0x04a00 ∷ drive 8600 0 0x0010a ∷ drive 8655 0 0x0810a ∷ drive 8690 7 0x00a00 ∷ drive 8690 0 0x00000 ∷ drive 8725 7 0x04a00 ∷ drive 8725 0 0x00100 ∷ drive 8780 0 0x08100 ∷ drive 8815 7 0x00a00 ∷ drive 8815 0 0x00000 ∷ drive 8850 7 0x04a00 ∷ drive 8850 0 0x00100 ∷ drive 8905 0 0x08100 ∷ drive 8940 7 0x00a00 ∷ drive 8940 0 0x00000 ∷ drive 8975 7 0x04a00 ∷ drive 8975 0 0x00100 ∷ drive 9030 0 0x08100 ∷ drive 9065 7 0x00a00 ∷ drive 9065 0 0x00000 ∷ drive 9100 7 0x04a00 ∷ drive 9100 0 0x00001 ∷ drive 9155 0 0x08001 ∷ drive 9190 7 0x00a00 ∷ drive 9190 0 0x00000 ∷ drive 9225 7 0x04a00 ∷ drive 9225 0 0x00100 ∷ drive 9280 0 0x08100 ∷ drive 9315 7 0x00a00 ∷ drive 9315 0 0x00000 ∷ drive 9350 7 0x00200 ∷ drive 9785 7 0x04200 ∷ drive 9785 0 0x000f8 ∷ drive 9840 0 0x080f8 ∷ drive 9910 7 0x00200 ∷ drive 9930 0 0x000f8 ∷ drive 9940 0 0x00000 ∷ drive 10220 7 0x04200 ∷ drive 10220 0 0x001f9 ∷ drive 10275 0 0x081f9 ∷ drive 10345 7 0x00200 ∷ drive 10365 0 0x001f9 ∷ drive 10375 0 0x00000 ∷ drive 10655 7 0x04200 ∷ drive 10655 0 0x001fa ∷ drive 10710 0 0x081fa ∷ drive 10780 7 0x00200 ∷ drive 10800 0 0x001fa ∷ drive 10810 0 0x00000 ∷ drive 11090 7 0x04200 ∷ drive 11090 0 0x000fb ∷ drive 11145 0 0x080fb ∷ drive 11215 7 0x00200 ∷ drive 11235 0 0x000fb ∷ drive 11245 0 0x00000 ∷ drive 11525 7 0x04200 ∷ drive 11525 0 0x001fc ∷ drive 11580 0 0x081fc ∷ drive 11650 7 0x00200 ∷ drive 11670 0 0x001fc ∷ drive 11680 0 0x00000 ∷ drive 11960 7 0x04200 ∷ drive 11960 0 0x000fd ∷ drive 12015 0 0x080fd ∷ drive 12085 7 0x00200 ∷ drive 12105 0 0x000fd ∷ drive 12115 0 0x00000 ∷ drive 12395 7 0x04200 ∷ drive 12395 0 0x000fe ∷ drive 12450 0 0x080fe ∷ drive 12520 7 0x00200 ∷ drive 12540 0 0x000fe ∷ drive 12550 0 0x00000 ∷ drive 12830 7 0x04200 ∷ drive 12830 0 0x001ff ∷ drive 12885 0 0x081ff ∷ drive 12955 7 0x00200 ∷ drive 12975 0 0x001ff ∷ drive 12985 0 0x00000 ∷ drive 13265 7 0x04200 ∷ drive 13265 0 0x00100 ∷ drive 13320 0 0x08100 ∷ drive 13390 7 0x00200 ∷ drive 13410 0 0x00100 ∷ drive 13420 0 0x00000 ∷ drive 13700 7 0x04200 ∷ drive 13700 0 0x00001 ∷ drive 13755 0 0x08001 ∷ drive 13825 7 0x00200 ∷ drive 13845 0 0x00001 ∷ drive 13855 0 0x00000 ∷ drive 14135 7 0x04200 ∷ drive 14135 0 0x00002 ∷ drive 14190 0 0x08002 ∷ drive 14260 7 0x00200 ∷ drive 14280 0 0x00002 ∷ drive 14290 0 0x00000 ∷ drive 14570 7 0x04200 ∷ drive 14570 0 0x00103 ∷ drive 14625 0 0x08103 ∷ drive 14695 7 0x00200 ∷ drive 14715 0 0x00103 ∷ drive 14725 0 0x00000 ∷ drive 15005 7 0x04200 ∷ drive 15005 0 0x00004 ∷ drive 15060 0 0x08004 ∷ drive 15130 7 0x00200 ∷ drive 15150 0 0x00004 ∷ drive 15160 0 0x00000 ∷ drive 15440 7 0x04200 ∷ drive 15440 0 0x00105 ∷ drive 15495 0 0x08105 ∷ drive 15565 7 0x00200 ∷ drive 15585 0 0x00105 ∷ drive 15595 0 0x00000 ∷ drive 15875 7 0x04200 ∷ drive 15875 0 0x00106 ∷ drive 15930 0 0x08106 ∷ drive 16000 7 0x00200 ∷ drive 16020 0 0x00106 ∷ drive 16030 0 0x00000 ∷ drive 16310 7 0x04200 ∷ drive 16310 0 0x00007 ∷ drive 16365 0 0x08007 ∷ strike 16365 7 8 ∷ drive 16435 7 0x00200 ∷ drive 16455 0 0x00007 ∷ drive 16465 0 0x00000 ∷ drive 16500 7 0x01a00 ∷ drive 17335 7 0x01a02 ∷ drive 17425 7 0x05a02 ∷ drive 17425 0 0x08000 ∷ drive 17460 7 0x01a00 ∷ drive 17460 0 0x00000 ∷ drive 17495 7 0x03b00 ∷ drive 17930 7 0x07b00 ∷ drive 17930 0 0x08000 ∷ drive 17965 7 0x03a00 ∷ drive 17965 0 0x00000 ∷ drive 18000 7 0x00000 ∷ drive 19200 0 0x00201 ∷ drive 20000 7 0x20000 ∷ drive 20000 0 0x00000 ∷ drive 45035 7 0x00000 ∷ []

abbrev data_out_given_up_due_events : List Event
data_out_given_up_due_events = events.Accept (command 1) ∷ events.Fail (command 1) 71 ∷ events.End (command 1) 2 ∷ events.Reset 7 ∷ []

abbrev pub data_out_given_up_due_shown : Shows
data_out_given_up_due_shown = record { rows = reverse data_out_given_up_due_rows; history = reverse data_out_given_up_due_events; ended = true }

-- ---- delayed_ack_due

abbrev pub delayed_ack_due : ScenarioValue
delayed_ack_due = record {
  version = 1;
  hosts = record { dev = 7; latency = 0; most = 1; retries = 2; period = 0; offset = 0; lag = 0; offers = true } ∷ [];
  targets = record { dev = 0; latency = 95; retries = 3; disc = policies.Never; pick = picks.First; seek = 500; period = 0; offset = 0; begins = false } ∷ [];
  units = record { target = 0; unit = 0; blocks = 1; size = 16; depth = 1 } ∷ [];
  fills = [];
  tapes = [];
  loads = [];
  commands = record { host = 7; target = 0; unit = 0; at = 0; tag = tags.Untagged; cdb = (18 ∷ 0 ∷ 0 ∷ 0 ∷ 4 ∷ 0 ∷ []); payload = payloads.Nothing } ∷ [];
  aborts = [];
  resets = [];
  faults = record { at = 9000; bit = 2 } ∷ record { at = 14500; bit = 8 } ∷ record { at = 17000; bit = 8 } ∷ [];
}

abbrev pub delayed_ack_due_rows : List Row
delayed_ack_due_rows = drive 1200 7 0x00280 ∷ drive 3600 7 0x00680 ∷ drive 4800 7 0x10781 ∷ drive 4890 7 0x10581 ∷ drive 5385 0 0x00200 ∷ drive 5475 7 0x10000 ∷ drive 5570 0 0x02a00 ∷ drive 6065 0 0x06a00 ∷ drive 6065 7 0x001c0 ∷ drive 6155 7 0x081c0 ∷ drive 6250 0 0x02a00 ∷ drive 6250 7 0x00000 ∷ drive 6345 0 0x00a00 ∷ drive 6840 0 0x04a00 ∷ drive 6840 7 0x00112 ∷ drive 6895 7 0x08112 ∷ drive 6990 0 0x00a00 ∷ drive 6990 7 0x00000 ∷ drive 7085 0 0x04a00 ∷ drive 7085 7 0x00100 ∷ drive 7140 7 0x08100 ∷ drive 7235 0 0x00a00 ∷ drive 7235 7 0x00000 ∷ drive 7330 0 0x04a00 ∷ drive 7330 7 0x00100 ∷ drive 7385 7 0x08100 ∷ drive 7480 0 0x00a00 ∷ drive 7480 7 0x00000 ∷ drive 7575 0 0x04a00 ∷ drive 7575 7 0x00100 ∷ drive 7630 7 0x08100 ∷ drive 7725 0 0x00a00 ∷ drive 7725 7 0x00000 ∷ drive 7820 0 0x04a00 ∷ drive 7820 7 0x00004 ∷ drive 7875 7 0x08004 ∷ drive 7970 0 0x00a00 ∷ drive 7970 7 0x00000 ∷ drive 8065 0 0x04a00 ∷ drive 8065 7 0x00100 ∷ drive 8120 7 0x08100 ∷ drive 8215 0 0x00a00 ∷ drive 8215 7 0x00000 ∷ drive 8810 0 0x01200 ∷ drive 9705 0 0x01300 ∷ drive 9855 0 0x05300 ∷ strike 9855 7 2 ∷ drive 9855 7 0x18000 ∷ drive 9950 0 0x01300 ∷ drive 9950 7 0x10000 ∷ drive 10100 0 0x05300 ∷ drive 10100 7 0x18000 ∷ drive 10195 0 0x01202 ∷ drive 10195 7 0x10000 ∷ drive 10345 0 0x05202 ∷ drive 10345 7 0x18000 ∷ drive 10440 0 0x01202 ∷ drive 10440 7 0x10000 ∷ drive 10590 0 0x05202 ∷ drive 10590 7 0x18000 ∷ drive 10685 0 0x01200 ∷ drive 10685 7 0x10000 ∷ drive 10780 0 0x02a00 ∷ drive 11275 0 0x06a00 ∷ drive 11275 7 0x00105 ∷ drive 11365 7 0x08105 ∷ drive 11460 0 0x02a00 ∷ drive 11460 7 0x00000 ∷ drive 11555 0 0x03a00 ∷ drive 12450 0 0x03b03 ∷ drive 12600 0 0x07b03 ∷ drive 12600 7 0x08000 ∷ drive 12695 0 0x03a00 ∷ drive 12695 7 0x00000 ∷ drive 12790 0 0x01300 ∷ drive 13285 0 0x05300 ∷ drive 13285 7 0x08000 ∷ drive 13380 0 0x01300 ∷ drive 13380 7 0x00000 ∷ drive 13530 0 0x05300 ∷ drive 13530 7 0x08000 ∷ drive 13625 0 0x01202 ∷ drive 13625 7 0x00000 ∷ drive 13775 0 0x05202 ∷ drive 13775 7 0x08000 ∷ drive 13870 0 0x01202 ∷ drive 13870 7 0x00000 ∷ drive 14020 0 0x05202 ∷ drive 14020 7 0x08000 ∷ drive 14115 0 0x01200 ∷ drive 14115 7 0x00000 ∷ drive 14210 0 0x01b00 ∷ drive 14705 0 0x05b00 ∷ strike 14705 7 8 ∷ drive 14705 7 0x18000 ∷ drive 14800 0 0x01a00 ∷ drive 14800 7 0x10000 ∷ drive 14895 0 0x02a00 ∷ drive 15390 0 0x06a00 ∷ drive 15390 7 0x00105 ∷ drive 15480 7 0x08105 ∷ drive 15575 0 0x02a00 ∷ drive 15575 7 0x00000 ∷ drive 15670 0 0x03a00 ∷ drive 16565 0 0x03b03 ∷ drive 16715 0 0x07b03 ∷ drive 16715 7 0x08000 ∷ drive 16810 0 0x03a00 ∷ drive 16810 7 0x00000 ∷ drive 16905 0 0x01b00 ∷ drive 17400 0 0x05b00 ∷ strike 17400 7 8 ∷ drive 17400 7 0x18000 ∷ drive 17495 0 0x01a00 ∷ drive 17495 7 0x10000 ∷ drive 17590 0 0x02a00 ∷ drive 18085 0 0x06a00 ∷ drive 18085 7 0x00105 ∷ drive 18175 7 0x08105 ∷ drive 18270 0 0x02a00 ∷ drive 18270 7 0x00000 ∷ drive 18365 0 0x03a00 ∷ drive 19260 0 0x03b03 ∷ drive 19410 0 0x07b03 ∷ drive 19410 7 0x08000 ∷ drive 19505 0 0x03a00 ∷ drive 19505 7 0x00000 ∷ drive 19600 0 0x01b00 ∷ drive 20095 0 0x05b00 ∷ drive 20095 7 0x08000 ∷ drive 20190 0 0x01a00 ∷ drive 20190 7 0x00000 ∷ drive 20285 0 0x03b00 ∷ drive 20780 0 0x07b00 ∷ drive 20780 7 0x08000 ∷ drive 20875 0 0x03a00 ∷ drive 20875 7 0x00000 ∷ drive 20970 0 0x00000 ∷ []

abbrev delayed_ack_due_events : List Event
delayed_ack_due_events = events.Accept (command 1) ∷ events.Run (command 1) ∷ events.End (command 1) 0 ∷ []

abbrev pub delayed_ack_due_shown : Shows
delayed_ack_due_shown = record { rows = reverse delayed_ack_due_rows; history = reverse delayed_ack_due_events; ended = true }

-- ---- device_reset_by_message_due

abbrev pub device_reset_by_message_due : ScenarioValue
device_reset_by_message_due = record {
  version = 2;
  hosts = record { dev = 7; latency = 0; most = 1; retries = 2; period = 50; offset = 2; lag = 0; offers = true } ∷ [];
  targets = record { dev = 0; latency = 50; retries = 2; disc = policies.Command; pick = picks.Last; seek = 70000; period = 40; offset = 8; begins = false } ∷ [];
  units = record { target = 0; unit = 1; blocks = 1; size = 16; depth = 1 } ∷ [];
  fills = [];
  tapes = [];
  loads = [];
  commands = record { host = 7; target = 0; unit = 1; at = 0; tag = tags.Untagged; cdb = (0 ∷ 0 ∷ 0 ∷ 0 ∷ 0 ∷ 0 ∷ []); payload = payloads.Nothing } ∷ record { host = 7; target = 0; unit = 1; at = 30000; tag = tags.Untagged; cdb = (18 ∷ 0 ∷ 0 ∷ 0 ∷ 5 ∷ 0 ∷ []); payload = payloads.Nothing } ∷ [];
  aborts = record { host = 7; target = 0; unit = 1; at = 15000; what = aborts.Device } ∷ [];
  resets = [];
  faults = [];
}

abbrev pub device_reset_by_message_due_rows : List Row
device_reset_by_message_due_rows = drive 1200 7 0x00280 ∷ drive 3600 7 0x00680 ∷ drive 4800 7 0x10781 ∷ drive 4890 7 0x10581 ∷ drive 5340 0 0x00200 ∷ drive 5430 7 0x10000 ∷ drive 5480 0 0x02a00 ∷ drive 5930 0 0x06a00 ∷ drive 5930 7 0x100c1 ∷ drive 5985 7 0x180c1 ∷ drive 6035 0 0x02a00 ∷ drive 6035 7 0x10000 ∷ drive 6085 0 0x06a00 ∷ drive 6085 7 0x10001 ∷ drive 6140 7 0x18001 ∷ drive 6190 0 0x02a00 ∷ drive 6190 7 0x10000 ∷ drive 6240 0 0x06a00 ∷ drive 6240 7 0x10103 ∷ drive 6295 7 0x18103 ∷ drive 6345 0 0x02a00 ∷ drive 6345 7 0x10000 ∷ drive 6395 0 0x06a00 ∷ drive 6395 7 0x10001 ∷ drive 6450 7 0x18001 ∷ drive 6500 0 0x02a00 ∷ drive 6500 7 0x10000 ∷ drive 6550 0 0x06a00 ∷ drive 6550 7 0x10032 ∷ drive 6605 7 0x18032 ∷ drive 6655 0 0x02a00 ∷ drive 6655 7 0x10000 ∷ drive 6705 0 0x06a00 ∷ drive 6705 7 0x00002 ∷ drive 6795 7 0x08002 ∷ drive 6845 0 0x02a00 ∷ drive 6845 7 0x00000 ∷ drive 6895 0 0x03a00 ∷ drive 7745 0 0x03a01 ∷ drive 7850 0 0x07a01 ∷ drive 7850 7 0x08000 ∷ drive 7900 0 0x03b03 ∷ drive 7900 7 0x00000 ∷ drive 8005 0 0x07b03 ∷ drive 8005 7 0x08000 ∷ drive 8055 0 0x03a01 ∷ drive 8055 7 0x00000 ∷ drive 8160 0 0x07a01 ∷ drive 8160 7 0x08000 ∷ drive 8210 0 0x03a32 ∷ drive 8210 7 0x00000 ∷ drive 8315 0 0x07a32 ∷ drive 8315 7 0x08000 ∷ drive 8365 0 0x03a02 ∷ drive 8365 7 0x00000 ∷ drive 8470 0 0x07a02 ∷ drive 8470 7 0x08000 ∷ drive 8520 0 0x03a00 ∷ drive 8520 7 0x00000 ∷ drive 8570 0 0x00a00 ∷ drive 9020 0 0x04a00 ∷ drive 9020 7 0x00100 ∷ drive 9075 7 0x08100 ∷ drive 9125 0 0x00a00 ∷ drive 9125 7 0x00000 ∷ drive 9175 0 0x04a00 ∷ drive 9175 7 0x00100 ∷ drive 9230 7 0x08100 ∷ drive 9280 0 0x00a00 ∷ drive 9280 7 0x00000 ∷ drive 9330 0 0x04a00 ∷ drive 9330 7 0x00100 ∷ drive 9385 7 0x08100 ∷ drive 9435 0 0x00a00 ∷ drive 9435 7 0x00000 ∷ drive 9485 0 0x04a00 ∷ drive 9485 7 0x00100 ∷ drive 9540 7 0x08100 ∷ drive 9590 0 0x00a00 ∷ drive 9590 7 0x00000 ∷ drive 9640 0 0x04a00 ∷ drive 9640 7 0x00100 ∷ drive 9695 7 0x08100 ∷ drive 9745 0 0x00a00 ∷ drive 9745 7 0x00000 ∷ drive 9795 0 0x04a00 ∷ drive 9795 7 0x00100 ∷ drive 9850 7 0x08100 ∷ drive 9900 0 0x00a00 ∷ drive 9900 7 0x00000 ∷ drive 9950 0 0x03a00 ∷ drive 10800 0 0x03a04 ∷ drive 10905 0 0x07a04 ∷ drive 10905 7 0x08000 ∷ drive 10955 0 0x03a00 ∷ drive 10955 7 0x00000 ∷ drive 11005 0 0x00000 ∷ drive 15000 7 0x00280 ∷ drive 17400 7 0x00680 ∷ drive 18600 7 0x10781 ∷ drive 18690 7 0x10581 ∷ drive 19140 0 0x00200 ∷ drive 19230 7 0x10000 ∷ drive 19280 0 0x02a00 ∷ drive 19730 0 0x06a00 ∷ drive 19730 7 0x10181 ∷ drive 19785 7 0x18181 ∷ drive 19835 0 0x02a00 ∷ drive 19835 7 0x10000 ∷ drive 19885 0 0x06a00 ∷ drive 19885 7 0x0010c ∷ drive 19975 7 0x0810c ∷ drive 20025 0 0x02a00 ∷ drive 20025 7 0x00000 ∷ drive 20075 0 0x00000 ∷ drive 30000 7 0x00280 ∷ drive 32400 7 0x00680 ∷ drive 33600 7 0x10781 ∷ drive 33690 7 0x10581 ∷ drive 34140 0 0x00200 ∷ drive 34230 7 0x10000 ∷ drive 34280 0 0x02a00 ∷ drive 34730 0 0x06a00 ∷ drive 34730 7 0x100c1 ∷ drive 34785 7 0x180c1 ∷ drive 34835 0 0x02a00 ∷ drive 34835 7 0x10000 ∷ drive 34885 0 0x06a00 ∷ drive 34885 7 0x10001 ∷ drive 34940 7 0x18001 ∷ drive 34990 0 0x02a00 ∷ drive 34990 7 0x10000 ∷ drive 35040 0 0x06a00 ∷ drive 35040 7 0x10103 ∷ drive 35095 7 0x18103 ∷ drive 35145 0 0x02a00 ∷ drive 35145 7 0x10000 ∷ drive 35195 0 0x06a00 ∷ drive 35195 7 0x10001 ∷ drive 35250 7 0x18001 ∷ drive 35300 0 0x02a00 ∷ drive 35300 7 0x10000 ∷ drive 35350 0 0x06a00 ∷ drive 35350 7 0x10032 ∷ drive 35405 7 0x18032 ∷ drive 35455 0 0x02a00 ∷ drive 35455 7 0x10000 ∷ drive 35505 0 0x06a00 ∷ drive 35505 7 0x00002 ∷ drive 35595 7 0x08002 ∷ drive 35645 0 0x02a00 ∷ drive 35645 7 0x00000 ∷ drive 35695 0 0x03a00 ∷ drive 36545 0 0x03a01 ∷ drive 36650 0 0x07a01 ∷ drive 36650 7 0x08000 ∷ drive 36700 0 0x03b03 ∷ drive 36700 7 0x00000 ∷ drive 36805 0 0x07b03 ∷ drive 36805 7 0x08000 ∷ drive 36855 0 0x03a01 ∷ drive 36855 7 0x00000 ∷ drive 36960 0 0x07a01 ∷ drive 36960 7 0x08000 ∷ drive 37010 0 0x03a32 ∷ drive 37010 7 0x00000 ∷ drive 37115 0 0x07a32 ∷ drive 37115 7 0x08000 ∷ drive 37165 0 0x03a02 ∷ drive 37165 7 0x00000 ∷ drive 37270 0 0x07a02 ∷ drive 37270 7 0x08000 ∷ drive 37320 0 0x03a00 ∷ drive 37320 7 0x00000 ∷ drive 37370 0 0x00a00 ∷ drive 37820 0 0x04a00 ∷ drive 37820 7 0x00112 ∷ drive 37875 7 0x08112 ∷ drive 37925 0 0x00a00 ∷ drive 37925 7 0x00000 ∷ drive 37975 0 0x04a00 ∷ drive 37975 7 0x00100 ∷ drive 38030 7 0x08100 ∷ drive 38080 0 0x00a00 ∷ drive 38080 7 0x00000 ∷ drive 38130 0 0x04a00 ∷ drive 38130 7 0x00100 ∷ drive 38185 7 0x08100 ∷ drive 38235 0 0x00a00 ∷ drive 38235 7 0x00000 ∷ drive 38285 0 0x04a00 ∷ drive 38285 7 0x00100 ∷ drive 38340 7 0x08100 ∷ drive 38390 0 0x00a00 ∷ drive 38390 7 0x00000 ∷ drive 38440 0 0x04a00 ∷ drive 38440 7 0x00105 ∷ drive 38495 7 0x08105 ∷ drive 38545 0 0x00a00 ∷ drive 38545 7 0x00000 ∷ drive 38595 0 0x04a00 ∷ drive 38595 7 0x00100 ∷ drive 38650 7 0x08100 ∷ drive 38700 0 0x00a00 ∷ drive 38700 7 0x00000 ∷ drive 38750 0 0x03a00 ∷ drive 39600 0 0x03a04 ∷ drive 39705 0 0x07a04 ∷ drive 39705 7 0x08000 ∷ drive 39755 0 0x03a00 ∷ drive 39755 7 0x00000 ∷ drive 39805 0 0x00000 ∷ drive 108800 0 0x00201 ∷ drive 111250 0 0x00601 ∷ drive 112500 0 0x01781 ∷ drive 112640 0 0x01581 ∷ drive 113040 7 0x00200 ∷ drive 113090 0 0x01781 ∷ drive 113230 0 0x03b81 ∷ drive 113230 7 0x00000 ∷ drive 113680 0 0x07b81 ∷ drive 113680 7 0x08000 ∷ drive 113730 0 0x03a00 ∷ drive 113730 7 0x00000 ∷ drive 113780 0 0x01300 ∷ drive 114230 0 0x05300 ∷ drive 114230 7 0x08000 ∷ drive 114320 7 0x00000 ∷ drive 114370 0 0x01300 ∷ drive 114510 0 0x05300 ∷ drive 114510 7 0x08000 ∷ drive 114600 7 0x00000 ∷ drive 114650 0 0x01300 ∷ drive 114660 0 0x01202 ∷ drive 114790 0 0x05202 ∷ drive 114790 7 0x08000 ∷ drive 114880 7 0x00000 ∷ drive 114930 0 0x01202 ∷ drive 115070 0 0x05202 ∷ drive 115070 7 0x08000 ∷ drive 115160 7 0x00000 ∷ drive 115210 0 0x01202 ∷ drive 115220 0 0x0121f ∷ drive 115350 0 0x0521f ∷ drive 115350 7 0x08000 ∷ drive 115440 7 0x00000 ∷ drive 115490 0 0x0121f ∷ drive 115500 0 0x01200 ∷ drive 115500 0 0x01b00 ∷ drive 115950 0 0x05b00 ∷ drive 115950 7 0x08000 ∷ drive 116000 0 0x01a00 ∷ drive 116000 7 0x00000 ∷ drive 116050 0 0x03b00 ∷ drive 116500 0 0x07b00 ∷ drive 116500 7 0x08000 ∷ drive 116550 0 0x03a00 ∷ drive 116550 7 0x00000 ∷ drive 116600 0 0x00000 ∷ []

abbrev device_reset_by_message_due_events : List Event
device_reset_by_message_due_events = events.Accept (command 1) ∷ events.Aborted 7 0 1 aborts.Device ∷ events.Accept (command 2) ∷ events.Run (command 2) ∷ events.End (command 2) 0 ∷ []

abbrev pub device_reset_by_message_due_shown : Shows
device_reset_by_message_due_shown = record { rows = reverse device_reset_by_message_due_rows; history = reverse device_reset_by_message_due_events; ended = true }

-- ---- equal_bytes_due

abbrev pub equal_bytes_due : ScenarioValue
equal_bytes_due = record {
  version = 1;
  hosts = record { dev = 7; latency = 90; most = 1; retries = 2; period = 30; offset = 8; lag = 0; offers = true } ∷ [];
  targets = record { dev = 1; latency = 0; retries = 2; disc = policies.Never; pick = picks.First; seek = 0; period = 50; offset = 8; begins = false } ∷ record { dev = 0; latency = 60; retries = 2; disc = policies.Never; pick = picks.First; seek = 0; period = 30; offset = 1; begins = false } ∷ [];
  units = record { target = 1; unit = 0; blocks = 1; size = 16; depth = 1 } ∷ record { target = 0; unit = 0; blocks = 1; size = 16; depth = 1 } ∷ [];
  fills = [];
  tapes = [];
  loads = [];
  commands = record { host = 7; target = 0; unit = 0; at = 0; tag = tags.Untagged; cdb = (10 ∷ 0 ∷ 0 ∷ 0 ∷ 1 ∷ 0 ∷ []); payload = payloads.Hex (7 ∷ 7 ∷ 7 ∷ 7 ∷ 7 ∷ 0 ∷ 0 ∷ 255 ∷ 255 ∷ 1 ∷ 1 ∷ 254 ∷ 2 ∷ 2 ∷ 2 ∷ 3 ∷ []) } ∷ record { host = 7; target = 1; unit = 0; at = 0; tag = tags.Untagged; cdb = (10 ∷ 0 ∷ 0 ∷ 0 ∷ 1 ∷ 0 ∷ []); payload = payloads.From 14 } ∷ [];
  aborts = [];
  resets = [];
  faults = [];
}

abbrev pub equal_bytes_due_rows : List Row
equal_bytes_due_rows = drive 1290 7 0x00280 ∷ drive 3780 7 0x00680 ∷ drive 5070 7 0x10781 ∷ drive 5250 7 0x10581 ∷ drive 5710 0 0x00200 ∷ drive 5890 7 0x10000 ∷ drive 5950 0 0x02a00 ∷ drive 6410 0 0x06a00 ∷ drive 6500 7 0x101c0 ∷ drive 6645 7 0x181c0 ∷ drive 6705 0 0x02a00 ∷ drive 6795 7 0x10000 ∷ drive 6855 0 0x06a00 ∷ drive 6945 7 0x10001 ∷ drive 7090 7 0x18001 ∷ drive 7150 0 0x02a00 ∷ drive 7240 7 0x10000 ∷ drive 7300 0 0x06a00 ∷ drive 7390 7 0x10103 ∷ drive 7535 7 0x18103 ∷ drive 7595 0 0x02a00 ∷ drive 7685 7 0x10000 ∷ drive 7745 0 0x06a00 ∷ drive 7835 7 0x10001 ∷ drive 7980 7 0x18001 ∷ drive 8040 0 0x02a00 ∷ drive 8130 7 0x10000 ∷ drive 8190 0 0x06a00 ∷ drive 8280 7 0x1011e ∷ drive 8425 7 0x1811e ∷ drive 8485 0 0x02a00 ∷ drive 8575 7 0x10000 ∷ drive 8635 0 0x06a00 ∷ drive 8725 7 0x00008 ∷ drive 8905 7 0x08008 ∷ drive 8965 0 0x02a00 ∷ drive 9055 7 0x00000 ∷ drive 9115 0 0x03a00 ∷ drive 9975 0 0x03a01 ∷ drive 10090 0 0x07a01 ∷ drive 10180 7 0x08000 ∷ drive 10240 0 0x03b03 ∷ drive 10330 7 0x00000 ∷ drive 10390 0 0x07b03 ∷ drive 10480 7 0x08000 ∷ drive 10540 0 0x03a01 ∷ drive 10630 7 0x00000 ∷ drive 10690 0 0x07a01 ∷ drive 10780 7 0x08000 ∷ drive 10840 0 0x03b1e ∷ drive 10930 7 0x00000 ∷ drive 10990 0 0x07b1e ∷ drive 11080 7 0x08000 ∷ drive 11140 0 0x03a01 ∷ drive 11230 7 0x00000 ∷ drive 11290 0 0x07a01 ∷ drive 11380 7 0x08000 ∷ drive 11440 0 0x03a00 ∷ drive 11530 7 0x00000 ∷ drive 11590 0 0x00a00 ∷ drive 12050 0 0x04a00 ∷ drive 12140 7 0x0010a ∷ drive 12285 7 0x0810a ∷ drive 12345 0 0x00a00 ∷ drive 12435 7 0x00000 ∷ drive 12495 0 0x04a00 ∷ drive 12585 7 0x00100 ∷ drive 12730 7 0x08100 ∷ drive 12790 0 0x00a00 ∷ drive 12880 7 0x00000 ∷ drive 12940 0 0x04a00 ∷ drive 13030 7 0x00100 ∷ drive 13175 7 0x08100 ∷ drive 13235 0 0x00a00 ∷ drive 13325 7 0x00000 ∷ drive 13385 0 0x04a00 ∷ drive 13475 7 0x00100 ∷ drive 13620 7 0x08100 ∷ drive 13680 0 0x00a00 ∷ drive 13770 7 0x00000 ∷ drive 13830 0 0x04a00 ∷ drive 13920 7 0x00001 ∷ drive 14065 7 0x08001 ∷ drive 14125 0 0x00a00 ∷ drive 14215 7 0x00000 ∷ drive 14275 0 0x04a00 ∷ drive 14365 7 0x00100 ∷ drive 14510 7 0x08100 ∷ drive 14570 0 0x00a00 ∷ drive 14660 7 0x00000 ∷ drive 14720 0 0x00200 ∷ drive 15180 0 0x04200 ∷ drive 15270 7 0x00007 ∷ drive 15270 0 0x00200 ∷ drive 15385 7 0x08007 ∷ drive 15445 0 0x04200 ∷ drive 15505 7 0x00007 ∷ drive 15535 0 0x00200 ∷ drive 15650 7 0x08007 ∷ drive 15710 0 0x04200 ∷ drive 15770 7 0x00007 ∷ drive 15800 0 0x00200 ∷ drive 15915 7 0x08007 ∷ drive 15975 0 0x04200 ∷ drive 16035 7 0x00007 ∷ drive 16065 0 0x00200 ∷ drive 16180 7 0x08007 ∷ drive 16240 0 0x04200 ∷ drive 16300 7 0x00007 ∷ drive 16330 0 0x00200 ∷ drive 16445 7 0x08007 ∷ drive 16505 0 0x04200 ∷ drive 16565 7 0x00007 ∷ drive 16595 7 0x00100 ∷ drive 16595 0 0x00200 ∷ drive 16710 7 0x08100 ∷ drive 16770 0 0x04200 ∷ drive 16830 7 0x00100 ∷ drive 16860 0 0x00200 ∷ drive 16975 7 0x08100 ∷ drive 17035 0 0x04200 ∷ drive 17095 7 0x00100 ∷ drive 17125 7 0x001ff ∷ drive 17125 0 0x00200 ∷ drive 17240 7 0x081ff ∷ drive 17300 0 0x04200 ∷ drive 17360 7 0x001ff ∷ drive 17390 0 0x00200 ∷ drive 17505 7 0x081ff ∷ drive 17565 0 0x04200 ∷ drive 17625 7 0x001ff ∷ drive 17655 7 0x00001 ∷ drive 17655 0 0x00200 ∷ drive 17770 7 0x08001 ∷ drive 17830 0 0x04200 ∷ drive 17890 7 0x00001 ∷ drive 17920 0 0x00200 ∷ drive 18035 7 0x08001 ∷ drive 18095 0 0x04200 ∷ drive 18155 7 0x00001 ∷ drive 18185 7 0x000fe ∷ drive 18185 0 0x00200 ∷ drive 18300 7 0x080fe ∷ drive 18360 0 0x04200 ∷ drive 18420 7 0x000fe ∷ drive 18450 7 0x00002 ∷ drive 18450 0 0x00200 ∷ drive 18565 7 0x08002 ∷ drive 18625 0 0x04200 ∷ drive 18685 7 0x00002 ∷ drive 18715 0 0x00200 ∷ drive 18830 7 0x08002 ∷ drive 18890 0 0x04200 ∷ drive 18950 7 0x00002 ∷ drive 18980 0 0x00200 ∷ drive 19095 7 0x08002 ∷ drive 19155 0 0x04200 ∷ drive 19215 7 0x00002 ∷ drive 19245 7 0x00103 ∷ drive 19245 0 0x00200 ∷ drive 19360 7 0x08103 ∷ drive 19480 7 0x00103 ∷ drive 19485 7 0x00000 ∷ drive 19540 0 0x01a00 ∷ drive 20400 0 0x01b00 ∷ drive 20515 0 0x05b00 ∷ drive 20605 7 0x08000 ∷ drive 20665 0 0x01a00 ∷ drive 20755 7 0x00000 ∷ drive 20815 0 0x03b00 ∷ drive 21275 0 0x07b00 ∷ drive 21365 7 0x08000 ∷ drive 21425 0 0x03a00 ∷ drive 21515 7 0x00000 ∷ drive 21575 0 0x00000 ∷ drive 22865 7 0x00280 ∷ drive 25355 7 0x00680 ∷ drive 26645 7 0x10782 ∷ drive 26825 7 0x10582 ∷ drive 27225 1 0x00200 ∷ drive 27405 7 0x10000 ∷ drive 27405 1 0x02a00 ∷ drive 27805 1 0x06a00 ∷ drive 27895 7 0x101c0 ∷ drive 28040 7 0x181c0 ∷ drive 28040 1 0x02a00 ∷ drive 28130 7 0x10000 ∷ drive 28130 1 0x06a00 ∷ drive 28220 7 0x10001 ∷ drive 28365 7 0x18001 ∷ drive 28365 1 0x02a00 ∷ drive 28455 7 0x10000 ∷ drive 28455 1 0x06a00 ∷ drive 28545 7 0x10103 ∷ drive 28690 7 0x18103 ∷ drive 28690 1 0x02a00 ∷ drive 28780 7 0x10000 ∷ drive 28780 1 0x06a00 ∷ drive 28870 7 0x10001 ∷ drive 29015 7 0x18001 ∷ drive 29015 1 0x02a00 ∷ drive 29105 7 0x10000 ∷ drive 29105 1 0x06a00 ∷ drive 29195 7 0x1011e ∷ drive 29340 7 0x1811e ∷ drive 29340 1 0x02a00 ∷ drive 29430 7 0x10000 ∷ drive 29430 1 0x06a00 ∷ drive 29520 7 0x00008 ∷ drive 29700 7 0x08008 ∷ drive 29700 1 0x02a00 ∷ drive 29790 7 0x00000 ∷ drive 29790 1 0x03a00 ∷ drive 30590 1 0x03a01 ∷ drive 30645 1 0x07a01 ∷ drive 30735 7 0x08000 ∷ drive 30735 1 0x03b03 ∷ drive 30825 7 0x00000 ∷ drive 30825 1 0x07b03 ∷ drive 30915 7 0x08000 ∷ drive 30915 1 0x03a01 ∷ drive 31005 7 0x00000 ∷ drive 31005 1 0x07a01 ∷ drive 31095 7 0x08000 ∷ drive 31095 1 0x03a32 ∷ drive 31185 7 0x00000 ∷ drive 31185 1 0x07a32 ∷ drive 31275 7 0x08000 ∷ drive 31275 1 0x03a08 ∷ drive 31365 7 0x00000 ∷ drive 31365 1 0x07a08 ∷ drive 31455 7 0x08000 ∷ drive 31455 1 0x03a00 ∷ drive 31545 7 0x00000 ∷ drive 31545 1 0x00a00 ∷ drive 31945 1 0x04a00 ∷ drive 32035 7 0x0010a ∷ drive 32180 7 0x0810a ∷ drive 32180 1 0x00a00 ∷ drive 32270 7 0x00000 ∷ drive 32270 1 0x04a00 ∷ drive 32360 7 0x00100 ∷ drive 32505 7 0x08100 ∷ drive 32505 1 0x00a00 ∷ drive 32595 7 0x00000 ∷ drive 32595 1 0x04a00 ∷ drive 32685 7 0x00100 ∷ drive 32830 7 0x08100 ∷ drive 32830 1 0x00a00 ∷ drive 32920 7 0x00000 ∷ drive 32920 1 0x04a00 ∷ drive 33010 7 0x00100 ∷ drive 33155 7 0x08100 ∷ drive 33155 1 0x00a00 ∷ drive 33245 7 0x00000 ∷ drive 33245 1 0x04a00 ∷ drive 33335 7 0x00001 ∷ drive 33480 7 0x08001 ∷ drive 33480 1 0x00a00 ∷ drive 33570 7 0x00000 ∷ drive 33570 1 0x04a00 ∷ drive 33660 7 0x00100 ∷ drive 33805 7 0x08100 ∷ drive 33805 1 0x00a00 ∷ drive 33895 7 0x00000 ∷ drive 33895 1 0x00200 ∷ drive 34295 1 0x04200 ∷ drive 34385 7 0x0000e ∷ drive 34385 1 0x00200 ∷ drive 34495 1 0x04200 ∷ drive 34530 7 0x0800e ∷ drive 34585 1 0x00200 ∷ drive 34695 1 0x04200 ∷ drive 34710 7 0x0000e ∷ drive 34720 7 0x0010f ∷ drive 34785 1 0x00200 ∷ drive 34890 7 0x0810f ∷ drive 34895 1 0x04200 ∷ drive 34985 1 0x00200 ∷ drive 35070 7 0x0010f ∷ drive 35080 7 0x00010 ∷ drive 35095 1 0x04200 ∷ drive 35185 1 0x00200 ∷ drive 35250 7 0x08010 ∷ drive 35295 1 0x04200 ∷ drive 35385 1 0x00200 ∷ drive 35430 7 0x00010 ∷ drive 35440 7 0x00111 ∷ drive 35495 1 0x04200 ∷ drive 35585 1 0x00200 ∷ drive 35610 7 0x08111 ∷ drive 35695 1 0x04200 ∷ drive 35785 1 0x00200 ∷ drive 35790 7 0x00111 ∷ drive 35800 7 0x00112 ∷ drive 35895 1 0x04200 ∷ drive 35970 7 0x08112 ∷ drive 35985 1 0x00200 ∷ drive 36095 1 0x04200 ∷ drive 36150 7 0x00112 ∷ drive 36160 7 0x00013 ∷ drive 36185 1 0x00200 ∷ drive 36295 1 0x04200 ∷ drive 36330 7 0x08013 ∷ drive 36385 1 0x00200 ∷ drive 36495 1 0x04200 ∷ drive 36510 7 0x00013 ∷ drive 36520 7 0x00114 ∷ drive 36585 1 0x00200 ∷ drive 36690 7 0x08114 ∷ drive 36695 1 0x04200 ∷ drive 36785 1 0x00200 ∷ drive 36870 7 0x00114 ∷ drive 36880 7 0x00015 ∷ drive 36895 1 0x04200 ∷ drive 36985 1 0x00200 ∷ drive 37050 7 0x08015 ∷ drive 37095 1 0x04200 ∷ drive 37185 1 0x00200 ∷ drive 37230 7 0x00015 ∷ drive 37240 7 0x00016 ∷ drive 37295 1 0x04200 ∷ drive 37385 1 0x00200 ∷ drive 37410 7 0x08016 ∷ drive 37590 7 0x00016 ∷ drive 37600 7 0x00117 ∷ drive 37770 7 0x08117 ∷ drive 37950 7 0x00117 ∷ drive 37960 7 0x00118 ∷ drive 38130 7 0x08118 ∷ drive 38310 7 0x00118 ∷ drive 38320 7 0x00019 ∷ drive 38490 7 0x08019 ∷ drive 38670 7 0x00019 ∷ drive 38680 7 0x0001a ∷ drive 38850 7 0x0801a ∷ drive 39030 7 0x0001a ∷ drive 39040 7 0x0011b ∷ drive 39210 7 0x0811b ∷ drive 39390 7 0x0011b ∷ drive 39400 7 0x0001c ∷ drive 39570 7 0x0801c ∷ drive 39750 7 0x0001c ∷ drive 39760 7 0x0011d ∷ drive 39930 7 0x0811d ∷ drive 40110 7 0x0011d ∷ drive 40110 1 0x01a00 ∷ drive 40120 7 0x00000 ∷ drive 40910 1 0x01b00 ∷ drive 40965 1 0x05b00 ∷ drive 41055 7 0x08000 ∷ drive 41055 1 0x01a00 ∷ drive 41145 7 0x00000 ∷ drive 41145 1 0x03b00 ∷ drive 41545 1 0x07b00 ∷ drive 41635 7 0x08000 ∷ drive 41635 1 0x03a00 ∷ drive 41725 7 0x00000 ∷ drive 41725 1 0x00000 ∷ []

abbrev equal_bytes_due_events : List Event
equal_bytes_due_events = events.Accept (command 1) ∷ events.Run (command 1) ∷ events.End (command 1) 0 ∷ events.Accept (command 2) ∷ events.Run (command 2) ∷ events.End (command 2) 0 ∷ []

abbrev pub equal_bytes_due_shown : Shows
equal_bytes_due_shown = record { rows = reverse equal_bytes_due_rows; history = reverse equal_bytes_due_events; ended = true }

-- ---- fast_pulses_out_due

abbrev pub fast_pulses_out_due : ScenarioValue
fast_pulses_out_due = record {
  version = 2;
  hosts = record { dev = 7; latency = 6; most = 1; retries = 2; period = 25; offset = 6; lag = 450; offers = true } ∷ [];
  targets = record { dev = 4; latency = 0; retries = 2; disc = policies.Never; pick = picks.First; seek = 0; period = 25; offset = 5; begins = false } ∷ [];
  units = record { target = 4; unit = 0; blocks = 1; size = 16; depth = 1 } ∷ [];
  fills = [];
  tapes = [];
  loads = [];
  commands = record { host = 7; target = 4; unit = 0; at = 0; tag = tags.Untagged; cdb = (10 ∷ 0 ∷ 0 ∷ 0 ∷ 1 ∷ 0 ∷ []); payload = payloads.Hex (0 ∷ 1 ∷ 2 ∷ 3 ∷ 4 ∷ 5 ∷ 6 ∷ 7 ∷ 7 ∷ 8 ∷ 8 ∷ 8 ∷ 9 ∷ 10 ∷ 11 ∷ 255 ∷ []) } ∷ [];
  aborts = [];
  resets = [];
  faults = [];
}

abbrev pub fast_pulses_out_due_rows : List Row
fast_pulses_out_due_rows = drive 1206 7 0x00280 ∷ drive 3612 7 0x00680 ∷ drive 4818 7 0x10790 ∷ drive 4914 7 0x10590 ∷ drive 5314 4 0x00200 ∷ drive 5410 7 0x10000 ∷ drive 5410 4 0x02a00 ∷ drive 5810 4 0x06a00 ∷ drive 5816 7 0x101c0 ∷ drive 5877 7 0x181c0 ∷ drive 5877 4 0x02a00 ∷ drive 5883 7 0x10000 ∷ drive 5883 4 0x06a00 ∷ drive 5889 7 0x10001 ∷ drive 5950 7 0x18001 ∷ drive 5950 4 0x02a00 ∷ drive 5956 7 0x10000 ∷ drive 5956 4 0x06a00 ∷ drive 5962 7 0x10103 ∷ drive 6023 7 0x18103 ∷ drive 6023 4 0x02a00 ∷ drive 6029 7 0x10000 ∷ drive 6029 4 0x06a00 ∷ drive 6035 7 0x10001 ∷ drive 6096 7 0x18001 ∷ drive 6096 4 0x02a00 ∷ drive 6102 7 0x10000 ∷ drive 6102 4 0x06a00 ∷ drive 6108 7 0x10019 ∷ drive 6169 7 0x18019 ∷ drive 6169 4 0x02a00 ∷ drive 6175 7 0x10000 ∷ drive 6175 4 0x06a00 ∷ drive 6181 7 0x00106 ∷ drive 6277 7 0x08106 ∷ drive 6277 4 0x02a00 ∷ drive 6283 7 0x00000 ∷ drive 6283 4 0x03a00 ∷ drive 7083 4 0x03a01 ∷ drive 7138 4 0x07a01 ∷ drive 7144 7 0x08000 ∷ drive 7144 4 0x03b03 ∷ drive 7150 7 0x00000 ∷ drive 7199 4 0x07b03 ∷ drive 7205 7 0x08000 ∷ drive 7205 4 0x03a01 ∷ drive 7211 7 0x00000 ∷ drive 7260 4 0x07a01 ∷ drive 7266 7 0x08000 ∷ drive 7266 4 0x03a19 ∷ drive 7272 7 0x00000 ∷ drive 7321 4 0x07a19 ∷ drive 7327 7 0x08000 ∷ drive 7327 4 0x03b05 ∷ drive 7333 7 0x00000 ∷ drive 7382 4 0x07b05 ∷ drive 7388 7 0x08000 ∷ drive 7388 4 0x03a00 ∷ drive 7394 7 0x00000 ∷ drive 7394 4 0x00a00 ∷ drive 7794 4 0x04a00 ∷ drive 7800 7 0x0010a ∷ drive 7861 7 0x0810a ∷ drive 7861 4 0x00a00 ∷ drive 7867 7 0x00000 ∷ drive 7867 4 0x04a00 ∷ drive 7873 7 0x00100 ∷ drive 7934 7 0x08100 ∷ drive 7934 4 0x00a00 ∷ drive 7940 7 0x00000 ∷ drive 7940 4 0x04a00 ∷ drive 7946 7 0x00100 ∷ drive 8007 7 0x08100 ∷ drive 8007 4 0x00a00 ∷ drive 8013 7 0x00000 ∷ drive 8013 4 0x04a00 ∷ drive 8019 7 0x00100 ∷ drive 8080 7 0x08100 ∷ drive 8080 4 0x00a00 ∷ drive 8086 7 0x00000 ∷ drive 8086 4 0x04a00 ∷ drive 8092 7 0x00001 ∷ drive 8153 7 0x08001 ∷ drive 8153 4 0x00a00 ∷ drive 8159 7 0x00000 ∷ drive 8159 4 0x04a00 ∷ drive 8165 7 0x00100 ∷ drive 8226 7 0x08100 ∷ drive 8226 4 0x00a00 ∷ drive 8232 7 0x00000 ∷ drive 8232 4 0x00200 ∷ drive 8632 4 0x04200 ∷ drive 8638 7 0x00100 ∷ drive 8662 4 0x00200 ∷ drive 8732 4 0x04200 ∷ drive 8762 4 0x00200 ∷ drive 8832 4 0x04200 ∷ drive 8862 4 0x00200 ∷ drive 8932 4 0x04200 ∷ drive 8962 4 0x00200 ∷ drive 9032 4 0x04200 ∷ drive 9062 4 0x00200 ∷ drive 9088 7 0x08100 ∷ drive 9124 7 0x00100 ∷ drive 9129 7 0x00001 ∷ drive 9132 4 0x04200 ∷ drive 9162 4 0x00200 ∷ drive 9194 7 0x08001 ∷ drive 9230 7 0x00001 ∷ drive 9232 4 0x04200 ∷ drive 9235 7 0x00002 ∷ drive 9262 4 0x00200 ∷ drive 9300 7 0x08002 ∷ drive 9332 4 0x04200 ∷ drive 9336 7 0x00002 ∷ drive 9341 7 0x00103 ∷ drive 9362 4 0x00200 ∷ drive 9406 7 0x08103 ∷ drive 9432 4 0x04200 ∷ drive 9442 7 0x00103 ∷ drive 9447 7 0x00004 ∷ drive 9462 4 0x00200 ∷ drive 9512 7 0x08004 ∷ drive 9532 4 0x04200 ∷ drive 9548 7 0x00004 ∷ drive 9553 7 0x00105 ∷ drive 9562 4 0x00200 ∷ drive 9618 7 0x08105 ∷ drive 9632 4 0x04200 ∷ drive 9654 7 0x00105 ∷ drive 9659 7 0x00106 ∷ drive 9662 4 0x00200 ∷ drive 9724 7 0x08106 ∷ drive 9732 4 0x04200 ∷ drive 9760 7 0x00106 ∷ drive 9762 4 0x00200 ∷ drive 9765 7 0x00007 ∷ drive 9830 7 0x08007 ∷ drive 9832 4 0x04200 ∷ drive 9862 4 0x00200 ∷ drive 9866 7 0x00007 ∷ drive 9936 7 0x08007 ∷ drive 9936 4 0x04200 ∷ drive 9966 4 0x00200 ∷ drive 9972 7 0x00007 ∷ drive 9977 7 0x00008 ∷ drive 10042 7 0x08008 ∷ drive 10042 4 0x04200 ∷ drive 10072 4 0x00200 ∷ drive 10078 7 0x00008 ∷ drive 10148 7 0x08008 ∷ drive 10148 4 0x04200 ∷ drive 10178 4 0x00200 ∷ drive 10184 7 0x00008 ∷ drive 10254 7 0x08008 ∷ drive 10290 7 0x00008 ∷ drive 10295 7 0x00109 ∷ drive 10360 7 0x08109 ∷ drive 10396 7 0x00109 ∷ drive 10401 7 0x0010a ∷ drive 10466 7 0x0810a ∷ drive 10502 7 0x0010a ∷ drive 10507 7 0x0000b ∷ drive 10572 7 0x0800b ∷ drive 10608 7 0x0000b ∷ drive 10613 7 0x001ff ∷ drive 10678 7 0x081ff ∷ drive 10714 7 0x001ff ∷ drive 10714 4 0x01a00 ∷ drive 10719 7 0x00000 ∷ drive 11514 4 0x01b00 ∷ drive 11569 4 0x05b00 ∷ drive 11575 7 0x08000 ∷ drive 11575 4 0x01a00 ∷ drive 11581 7 0x00000 ∷ drive 11581 4 0x03b00 ∷ drive 11981 4 0x07b00 ∷ drive 11987 7 0x08000 ∷ drive 11987 4 0x03a00 ∷ drive 11993 7 0x00000 ∷ drive 11993 4 0x00000 ∷ []

abbrev fast_pulses_out_due_events : List Event
fast_pulses_out_due_events = events.Accept (command 1) ∷ events.Run (command 1) ∷ events.End (command 1) 0 ∷ []

abbrev pub fast_pulses_out_due_shown : Shows
fast_pulses_out_due_shown = record { rows = reverse fast_pulses_out_due_rows; history = reverse fast_pulses_out_due_events; ended = true }

-- ---- field_in_a_command_due

abbrev pub field_in_a_command_due : ScenarioValue
field_in_a_command_due = record {
  version = 1;
  hosts = record { dev = 0; latency = 99; most = 1; retries = 2; period = 200; offset = 7; lag = 0; offers = true } ∷ [];
  targets = record { dev = 1; latency = 100; retries = 2; disc = policies.Never; pick = picks.First; seek = 2500; period = 255; offset = 254; begins = false } ∷ [];
  units = record { target = 1; unit = 0; blocks = 1; size = 16; depth = 1 } ∷ [];
  fills = [];
  tapes = [];
  loads = [];
  commands = record { host = 0; target = 1; unit = 0; at = 0; tag = tags.Untagged; cdb = (0 ∷ 0 ∷ 0 ∷ 0 ∷ 0 ∷ 1 ∷ []); payload = payloads.Nothing } ∷ [];
  aborts = [];
  resets = [];
  faults = [];
}

abbrev pub field_in_a_command_due_rows : List Row
field_in_a_command_due_rows = drive 1299 0 0x00201 ∷ drive 3798 0 0x00601 ∷ drive 5097 0 0x10703 ∷ drive 5286 0 0x10503 ∷ drive 5786 1 0x00200 ∷ drive 5975 0 0x10000 ∷ drive 6075 1 0x02a00 ∷ drive 6575 1 0x06a00 ∷ drive 6674 0 0x101c0 ∷ drive 6828 0 0x181c0 ∷ drive 6928 1 0x02a00 ∷ drive 7027 0 0x10000 ∷ drive 7127 1 0x06a00 ∷ drive 7226 0 0x10001 ∷ drive 7380 0 0x18001 ∷ drive 7480 1 0x02a00 ∷ drive 7579 0 0x10000 ∷ drive 7679 1 0x06a00 ∷ drive 7778 0 0x10103 ∷ drive 7932 0 0x18103 ∷ drive 8032 1 0x02a00 ∷ drive 8131 0 0x10000 ∷ drive 8231 1 0x06a00 ∷ drive 8330 0 0x10001 ∷ drive 8484 0 0x18001 ∷ drive 8584 1 0x02a00 ∷ drive 8683 0 0x10000 ∷ drive 8783 1 0x06a00 ∷ drive 8882 0 0x100c8 ∷ drive 9036 0 0x180c8 ∷ drive 9136 1 0x02a00 ∷ drive 9235 0 0x10000 ∷ drive 9335 1 0x06a00 ∷ drive 9434 0 0x00007 ∷ drive 9623 0 0x08007 ∷ drive 9723 1 0x02a00 ∷ drive 9822 0 0x00000 ∷ drive 9922 1 0x03a00 ∷ drive 10822 1 0x03a01 ∷ drive 10977 1 0x07a01 ∷ drive 11076 0 0x08000 ∷ drive 11176 1 0x03b03 ∷ drive 11275 0 0x00000 ∷ drive 11375 1 0x07b03 ∷ drive 11474 0 0x08000 ∷ drive 11574 1 0x03a01 ∷ drive 11673 0 0x00000 ∷ drive 11773 1 0x07a01 ∷ drive 11872 0 0x08000 ∷ drive 11972 1 0x03bff ∷ drive 12071 0 0x00000 ∷ drive 12171 1 0x07bff ∷ drive 12270 0 0x08000 ∷ drive 12370 1 0x03a07 ∷ drive 12469 0 0x00000 ∷ drive 12569 1 0x07a07 ∷ drive 12668 0 0x08000 ∷ drive 12768 1 0x03a00 ∷ drive 12867 0 0x00000 ∷ drive 12967 1 0x00a00 ∷ drive 13467 1 0x04a00 ∷ drive 13566 0 0x00100 ∷ drive 13720 0 0x08100 ∷ drive 13820 1 0x00a00 ∷ drive 13919 0 0x00000 ∷ drive 14019 1 0x04a00 ∷ drive 14118 0 0x00100 ∷ drive 14272 0 0x08100 ∷ drive 14372 1 0x00a00 ∷ drive 14471 0 0x00000 ∷ drive 14571 1 0x04a00 ∷ drive 14670 0 0x00100 ∷ drive 14824 0 0x08100 ∷ drive 14924 1 0x00a00 ∷ drive 15023 0 0x00000 ∷ drive 15123 1 0x04a00 ∷ drive 15222 0 0x00100 ∷ drive 15376 0 0x08100 ∷ drive 15476 1 0x00a00 ∷ drive 15575 0 0x00000 ∷ drive 15675 1 0x04a00 ∷ drive 15774 0 0x00100 ∷ drive 15928 0 0x08100 ∷ drive 16028 1 0x00a00 ∷ drive 16127 0 0x00000 ∷ drive 16227 1 0x04a00 ∷ drive 16326 0 0x00001 ∷ drive 16480 0 0x08001 ∷ drive 16580 1 0x00a00 ∷ drive 16679 0 0x00000 ∷ drive 19279 1 0x01a00 ∷ drive 20179 1 0x01a02 ∷ drive 20334 1 0x05a02 ∷ drive 20433 0 0x08000 ∷ drive 20533 1 0x01a00 ∷ drive 20632 0 0x00000 ∷ drive 20732 1 0x03b00 ∷ drive 21232 1 0x07b00 ∷ drive 21331 0 0x08000 ∷ drive 21431 1 0x03a00 ∷ drive 21530 0 0x00000 ∷ drive 21630 1 0x00000 ∷ drive 22929 0 0x00201 ∷ drive 25428 0 0x00601 ∷ drive 26727 0 0x10703 ∷ drive 26916 0 0x10503 ∷ drive 27416 1 0x00200 ∷ drive 27605 0 0x10000 ∷ drive 27705 1 0x02a00 ∷ drive 28205 1 0x06a00 ∷ drive 28304 0 0x00080 ∷ drive 28493 0 0x08080 ∷ drive 28593 1 0x02a00 ∷ drive 28692 0 0x00000 ∷ drive 28792 1 0x00a00 ∷ drive 29292 1 0x04a00 ∷ drive 29391 0 0x00103 ∷ drive 29545 0 0x08103 ∷ drive 29645 1 0x00a00 ∷ drive 29744 0 0x00000 ∷ drive 29844 1 0x04a00 ∷ drive 29943 0 0x00100 ∷ drive 30097 0 0x08100 ∷ drive 30197 1 0x00a00 ∷ drive 30296 0 0x00000 ∷ drive 30396 1 0x04a00 ∷ drive 30495 0 0x00100 ∷ drive 30649 0 0x08100 ∷ drive 30749 1 0x00a00 ∷ drive 30848 0 0x00000 ∷ drive 30948 1 0x04a00 ∷ drive 31047 0 0x00100 ∷ drive 31201 0 0x08100 ∷ drive 31301 1 0x00a00 ∷ drive 31400 0 0x00000 ∷ drive 31500 1 0x04a00 ∷ drive 31599 0 0x00112 ∷ drive 31753 0 0x08112 ∷ drive 31853 1 0x00a00 ∷ drive 31952 0 0x00000 ∷ drive 32052 1 0x04a00 ∷ drive 32151 0 0x00100 ∷ drive 32305 0 0x08100 ∷ drive 32405 1 0x00a00 ∷ drive 32504 0 0x00000 ∷ drive 32604 1 0x01200 ∷ drive 33504 1 0x01270 ∷ drive 33659 1 0x05270 ∷ drive 33758 0 0x08000 ∷ drive 33849 1 0x01270 ∷ drive 33859 1 0x01300 ∷ drive 33947 0 0x00000 ∷ drive 34779 1 0x05300 ∷ drive 34878 0 0x08000 ∷ drive 34969 1 0x01300 ∷ drive 34979 1 0x01305 ∷ drive 35067 0 0x00000 ∷ drive 35899 1 0x05305 ∷ drive 35998 0 0x08000 ∷ drive 36089 1 0x01305 ∷ drive 36099 1 0x01300 ∷ drive 36187 0 0x00000 ∷ drive 37019 1 0x05300 ∷ drive 37118 0 0x08000 ∷ drive 37209 1 0x01300 ∷ drive 37307 0 0x00000 ∷ drive 38139 1 0x05300 ∷ drive 38238 0 0x08000 ∷ drive 38329 1 0x01300 ∷ drive 38427 0 0x00000 ∷ drive 39259 1 0x05300 ∷ drive 39358 0 0x08000 ∷ drive 39449 1 0x01300 ∷ drive 39547 0 0x00000 ∷ drive 40379 1 0x05300 ∷ drive 40478 0 0x08000 ∷ drive 40569 1 0x01300 ∷ drive 40579 1 0x0130a ∷ drive 40667 0 0x00000 ∷ drive 41499 1 0x0530a ∷ drive 41598 0 0x08000 ∷ drive 41689 1 0x0130a ∷ drive 41699 1 0x01300 ∷ drive 41787 0 0x00000 ∷ drive 42619 1 0x05300 ∷ drive 42718 0 0x08000 ∷ drive 42809 1 0x01300 ∷ drive 42907 0 0x00000 ∷ drive 43739 1 0x05300 ∷ drive 43838 0 0x08000 ∷ drive 43929 1 0x01300 ∷ drive 44027 0 0x00000 ∷ drive 44859 1 0x05300 ∷ drive 44958 0 0x08000 ∷ drive 45049 1 0x01300 ∷ drive 45147 0 0x00000 ∷ drive 45979 1 0x05300 ∷ drive 46078 0 0x08000 ∷ drive 46169 1 0x01300 ∷ drive 46179 1 0x01324 ∷ drive 46267 0 0x00000 ∷ drive 47099 1 0x05324 ∷ drive 47198 0 0x08000 ∷ drive 47289 1 0x01324 ∷ drive 47299 1 0x01300 ∷ drive 47387 0 0x00000 ∷ drive 48219 1 0x05300 ∷ drive 48318 0 0x08000 ∷ drive 48409 1 0x01300 ∷ drive 48507 0 0x00000 ∷ drive 49339 1 0x05300 ∷ drive 49438 0 0x08000 ∷ drive 49529 1 0x01300 ∷ drive 49627 0 0x00000 ∷ drive 50459 1 0x05300 ∷ drive 50558 0 0x08000 ∷ drive 50649 1 0x01300 ∷ drive 50747 0 0x00000 ∷ drive 51579 1 0x05300 ∷ drive 51678 0 0x08000 ∷ drive 51769 1 0x01300 ∷ drive 51867 0 0x00000 ∷ drive 52699 1 0x05300 ∷ drive 52798 0 0x08000 ∷ drive 52889 1 0x01300 ∷ drive 52899 1 0x01200 ∷ drive 52987 0 0x00000 ∷ drive 53087 1 0x01b00 ∷ drive 53587 1 0x05b00 ∷ drive 53686 0 0x08000 ∷ drive 53786 1 0x01a00 ∷ drive 53885 0 0x00000 ∷ drive 53985 1 0x03b00 ∷ drive 54485 1 0x07b00 ∷ drive 54584 0 0x08000 ∷ drive 54684 1 0x03a00 ∷ drive 54783 0 0x00000 ∷ drive 54883 1 0x00000 ∷ []

abbrev field_in_a_command_due_events : List Event
field_in_a_command_due_events = events.Accept (command 1) ∷ events.Run (command 1) ∷ events.End (command 1) 2 ∷ events.Accept (sense 1) ∷ events.Run (sense 1) ∷ events.End (sense 1) 0 ∷ []

abbrev pub field_in_a_command_due_shown : Shows
field_in_a_command_due_shown = record { rows = reverse field_in_a_command_due_rows; history = reverse field_in_a_command_due_events; ended = true }

-- ---- full_queue_due

abbrev pub full_queue_due : ScenarioValue
full_queue_due = record {
  version = 1;
  hosts = record { dev = 7; latency = 0; most = 3; retries = 2; period = 0; offset = 0; lag = 0; offers = true } ∷ [];
  targets = record { dev = 5; latency = 27; retries = 2; disc = policies.Command; pick = picks.First; seek = 40000; period = 0; offset = 0; begins = false } ∷ [];
  units = record { target = 5; unit = 0; blocks = 1; size = 16; depth = 1 } ∷ [];
  fills = [];
  tapes = [];
  loads = [];
  commands = record { host = 7; target = 5; unit = 0; at = 0; tag = tags.Simple 1; cdb = (0 ∷ 0 ∷ 0 ∷ 0 ∷ 0 ∷ 0 ∷ []); payload = payloads.Nothing } ∷ record { host = 7; target = 5; unit = 0; at = 0; tag = tags.Simple 2; cdb = (0 ∷ 0 ∷ 0 ∷ 0 ∷ 0 ∷ 0 ∷ []); payload = payloads.Nothing } ∷ [];
  aborts = [];
  resets = [];
  faults = [];
}

abbrev pub full_queue_due_rows : List Row
full_queue_due_rows = drive 1200 7 0x00280 ∷ drive 3600 7 0x00680 ∷ drive 4800 7 0x107a0 ∷ drive 4890 7 0x105a0 ∷ drive 5317 5 0x00200 ∷ drive 5407 7 0x10000 ∷ drive 5434 5 0x02a00 ∷ drive 5861 5 0x06a00 ∷ drive 5861 7 0x101c0 ∷ drive 5916 7 0x181c0 ∷ drive 5943 5 0x02a00 ∷ drive 5943 7 0x10000 ∷ drive 5970 5 0x06a00 ∷ drive 5970 7 0x10020 ∷ drive 6025 7 0x18020 ∷ drive 6052 5 0x02a00 ∷ drive 6052 7 0x10000 ∷ drive 6079 5 0x06a00 ∷ drive 6079 7 0x00001 ∷ drive 6169 7 0x08001 ∷ drive 6196 5 0x02a00 ∷ drive 6196 7 0x00000 ∷ drive 6223 5 0x00a00 ∷ drive 6650 5 0x04a00 ∷ drive 6650 7 0x00100 ∷ drive 6705 7 0x08100 ∷ drive 6732 5 0x00a00 ∷ drive 6732 7 0x00000 ∷ drive 6759 5 0x04a00 ∷ drive 6759 7 0x00100 ∷ drive 6814 7 0x08100 ∷ drive 6841 5 0x00a00 ∷ drive 6841 7 0x00000 ∷ drive 6868 5 0x04a00 ∷ drive 6868 7 0x00100 ∷ drive 6923 7 0x08100 ∷ drive 6950 5 0x00a00 ∷ drive 6950 7 0x00000 ∷ drive 6977 5 0x04a00 ∷ drive 6977 7 0x00100 ∷ drive 7032 7 0x08100 ∷ drive 7059 5 0x00a00 ∷ drive 7059 7 0x00000 ∷ drive 7086 5 0x04a00 ∷ drive 7086 7 0x00100 ∷ drive 7141 7 0x08100 ∷ drive 7168 5 0x00a00 ∷ drive 7168 7 0x00000 ∷ drive 7195 5 0x04a00 ∷ drive 7195 7 0x00100 ∷ drive 7250 7 0x08100 ∷ drive 7277 5 0x00a00 ∷ drive 7277 7 0x00000 ∷ drive 7304 5 0x03a00 ∷ drive 8131 5 0x03a04 ∷ drive 8213 5 0x07a04 ∷ drive 8213 7 0x08000 ∷ drive 8240 5 0x03a00 ∷ drive 8240 7 0x00000 ∷ drive 8267 5 0x00000 ∷ drive 9467 7 0x00280 ∷ drive 11867 7 0x00680 ∷ drive 13067 7 0x107a0 ∷ drive 13157 7 0x105a0 ∷ drive 13584 5 0x00200 ∷ drive 13674 7 0x10000 ∷ drive 13701 5 0x02a00 ∷ drive 14128 5 0x06a00 ∷ drive 14128 7 0x101c0 ∷ drive 14183 7 0x181c0 ∷ drive 14210 5 0x02a00 ∷ drive 14210 7 0x10000 ∷ drive 14237 5 0x06a00 ∷ drive 14237 7 0x10020 ∷ drive 14292 7 0x18020 ∷ drive 14319 5 0x02a00 ∷ drive 14319 7 0x10000 ∷ drive 14346 5 0x06a00 ∷ drive 14346 7 0x00002 ∷ drive 14436 7 0x08002 ∷ drive 14463 5 0x02a00 ∷ drive 14463 7 0x00000 ∷ drive 14490 5 0x00a00 ∷ drive 14917 5 0x04a00 ∷ drive 14917 7 0x00100 ∷ drive 14972 7 0x08100 ∷ drive 14999 5 0x00a00 ∷ drive 14999 7 0x00000 ∷ drive 15026 5 0x04a00 ∷ drive 15026 7 0x00100 ∷ drive 15081 7 0x08100 ∷ drive 15108 5 0x00a00 ∷ drive 15108 7 0x00000 ∷ drive 15135 5 0x04a00 ∷ drive 15135 7 0x00100 ∷ drive 15190 7 0x08100 ∷ drive 15217 5 0x00a00 ∷ drive 15217 7 0x00000 ∷ drive 15244 5 0x04a00 ∷ drive 15244 7 0x00100 ∷ drive 15299 7 0x08100 ∷ drive 15326 5 0x00a00 ∷ drive 15326 7 0x00000 ∷ drive 15353 5 0x04a00 ∷ drive 15353 7 0x00100 ∷ drive 15408 7 0x08100 ∷ drive 15435 5 0x00a00 ∷ drive 15435 7 0x00000 ∷ drive 15462 5 0x04a00 ∷ drive 15462 7 0x00100 ∷ drive 15517 7 0x08100 ∷ drive 15544 5 0x00a00 ∷ drive 15544 7 0x00000 ∷ drive 15571 5 0x01a00 ∷ drive 16398 5 0x01b28 ∷ drive 16480 5 0x05b28 ∷ drive 16480 7 0x08000 ∷ drive 16507 5 0x01a00 ∷ drive 16507 7 0x00000 ∷ drive 16534 5 0x03b00 ∷ drive 16961 5 0x07b00 ∷ drive 16961 7 0x08000 ∷ drive 16988 5 0x03a00 ∷ drive 16988 7 0x00000 ∷ drive 17015 5 0x00000 ∷ drive 47331 5 0x00220 ∷ drive 49758 5 0x00620 ∷ drive 50985 5 0x017a0 ∷ drive 51102 5 0x015a0 ∷ drive 51502 7 0x00200 ∷ drive 51529 5 0x017a0 ∷ drive 51646 5 0x03a80 ∷ drive 51646 7 0x00000 ∷ drive 52073 5 0x07a80 ∷ drive 52073 7 0x08000 ∷ drive 52100 5 0x03a20 ∷ drive 52100 7 0x00000 ∷ drive 52182 5 0x07a20 ∷ drive 52182 7 0x08000 ∷ drive 52209 5 0x03a01 ∷ drive 52209 7 0x00000 ∷ drive 52291 5 0x07a01 ∷ drive 52291 7 0x08000 ∷ drive 52318 5 0x03a00 ∷ drive 52318 7 0x00000 ∷ drive 52345 5 0x01b00 ∷ drive 52772 5 0x05b00 ∷ drive 52772 7 0x08000 ∷ drive 52799 5 0x01a00 ∷ drive 52799 7 0x00000 ∷ drive 52826 5 0x03b00 ∷ drive 53253 5 0x07b00 ∷ drive 53253 7 0x08000 ∷ drive 53280 5 0x03a00 ∷ drive 53280 7 0x00000 ∷ drive 53307 5 0x00000 ∷ []

abbrev full_queue_due_events : List Event
full_queue_due_events = events.Accept (command 1) ∷ events.Refuse (command 2) ∷ events.End (command 2) 40 ∷ events.Run (command 1) ∷ events.End (command 1) 0 ∷ []

abbrev pub full_queue_due_shown : Shows
full_queue_due_shown = record { rows = reverse full_queue_due_rows; history = reverse full_queue_due_events; ended = true }

-- ---- given_up_due

abbrev pub given_up_due : ScenarioValue
given_up_due = record {
  version = 1;
  hosts = record { dev = 7; latency = 33; most = 1; retries = 2; period = 0; offset = 0; lag = 0; offers = true } ∷ [];
  targets = record { dev = 0; latency = 12; retries = 0; disc = policies.Never; pick = picks.First; seek = 0; period = 0; offset = 0; begins = false } ∷ [];
  units = record { target = 0; unit = 0; blocks = 1; size = 16; depth = 1 } ∷ [];
  fills = [];
  tapes = [];
  loads = [];
  commands = record { host = 7; target = 0; unit = 0; at = 0; tag = tags.Untagged; cdb = (10 ∷ 0 ∷ 0 ∷ 0 ∷ 1 ∷ 0 ∷ []); payload = payloads.From 16 } ∷ record { host = 7; target = 0; unit = 0; at = 0; tag = tags.Untagged; cdb = (18 ∷ 0 ∷ 0 ∷ 0 ∷ 3 ∷ 0 ∷ []); payload = payloads.Nothing } ∷ record { host = 7; target = 0; unit = 0; at = 0; tag = tags.Untagged; cdb = (0 ∷ 0 ∷ 0 ∷ 0 ∷ 0 ∷ 0 ∷ []); payload = payloads.Nothing } ∷ [];
  aborts = [];
  resets = [];
  faults = record { at = 8741; bit = 2 } ∷ record { at = 32509; bit = 5 } ∷ record { at = 55079; bit = 1 } ∷ [];
}

abbrev pub given_up_due_rows : List Row
given_up_due_rows = drive 1233 7 0x00280 ∷ drive 3666 7 0x00680 ∷ drive 4899 7 0x10781 ∷ drive 5022 7 0x10581 ∷ drive 5434 0 0x00200 ∷ drive 5557 7 0x10000 ∷ drive 5569 0 0x02a00 ∷ drive 5981 0 0x06a00 ∷ drive 6014 7 0x001c0 ∷ drive 6137 7 0x081c0 ∷ drive 6149 0 0x02a00 ∷ drive 6182 7 0x00000 ∷ drive 6194 0 0x00a00 ∷ drive 6606 0 0x04a00 ∷ drive 6639 7 0x0010a ∷ drive 6727 7 0x0810a ∷ drive 6739 0 0x00a00 ∷ drive 6772 7 0x00000 ∷ drive 6784 0 0x04a00 ∷ drive 6817 7 0x00100 ∷ drive 6905 7 0x08100 ∷ drive 6917 0 0x00a00 ∷ drive 6950 7 0x00000 ∷ drive 6962 0 0x04a00 ∷ drive 6995 7 0x00100 ∷ drive 7083 7 0x08100 ∷ drive 7095 0 0x00a00 ∷ drive 7128 7 0x00000 ∷ drive 7140 0 0x04a00 ∷ drive 7173 7 0x00100 ∷ drive 7261 7 0x08100 ∷ drive 7273 0 0x00a00 ∷ drive 7306 7 0x00000 ∷ drive 7318 0 0x04a00 ∷ drive 7351 7 0x00001 ∷ drive 7439 7 0x08001 ∷ drive 7451 0 0x00a00 ∷ drive 7484 7 0x00000 ∷ drive 7496 0 0x04a00 ∷ drive 7529 7 0x00100 ∷ drive 7617 7 0x08100 ∷ drive 7629 0 0x00a00 ∷ drive 7662 7 0x00000 ∷ drive 7674 0 0x00200 ∷ drive 8086 0 0x04200 ∷ drive 8119 7 0x00010 ∷ drive 8207 7 0x08010 ∷ drive 8219 0 0x00200 ∷ drive 8252 7 0x00000 ∷ drive 8264 0 0x04200 ∷ drive 8297 7 0x00111 ∷ drive 8385 7 0x08111 ∷ drive 8397 0 0x00200 ∷ drive 8430 7 0x00000 ∷ drive 8442 0 0x04200 ∷ drive 8475 7 0x00112 ∷ drive 8563 7 0x08112 ∷ drive 8575 0 0x00200 ∷ drive 8608 7 0x00000 ∷ drive 8620 0 0x04200 ∷ drive 8653 7 0x00013 ∷ drive 8741 7 0x08013 ∷ strike 8741 0 2 ∷ drive 8753 0 0x00200 ∷ drive 8786 7 0x00000 ∷ drive 8798 0 0x04200 ∷ drive 8831 7 0x00114 ∷ drive 8919 7 0x08114 ∷ drive 8931 0 0x00200 ∷ drive 8964 7 0x00000 ∷ drive 8976 0 0x04200 ∷ drive 9009 7 0x00015 ∷ drive 9097 7 0x08015 ∷ drive 9109 0 0x00200 ∷ drive 9142 7 0x00000 ∷ drive 9154 0 0x04200 ∷ drive 9187 7 0x00016 ∷ drive 9275 7 0x08016 ∷ drive 9287 0 0x00200 ∷ drive 9320 7 0x00000 ∷ drive 9332 0 0x04200 ∷ drive 9365 7 0x00117 ∷ drive 9453 7 0x08117 ∷ drive 9465 0 0x00200 ∷ drive 9498 7 0x00000 ∷ drive 9510 0 0x04200 ∷ drive 9543 7 0x00118 ∷ drive 9631 7 0x08118 ∷ drive 9643 0 0x00200 ∷ drive 9676 7 0x00000 ∷ drive 9688 0 0x04200 ∷ drive 9721 7 0x00019 ∷ drive 9809 7 0x08019 ∷ drive 9821 0 0x00200 ∷ drive 9854 7 0x00000 ∷ drive 9866 0 0x04200 ∷ drive 9899 7 0x0001a ∷ drive 9987 7 0x0801a ∷ drive 9999 0 0x00200 ∷ drive 10032 7 0x00000 ∷ drive 10044 0 0x04200 ∷ drive 10077 7 0x0011b ∷ drive 10165 7 0x0811b ∷ drive 10177 0 0x00200 ∷ drive 10210 7 0x00000 ∷ drive 10222 0 0x04200 ∷ drive 10255 7 0x0001c ∷ drive 10343 7 0x0801c ∷ drive 10355 0 0x00200 ∷ drive 10388 7 0x00000 ∷ drive 10400 0 0x04200 ∷ drive 10433 7 0x0011d ∷ drive 10521 7 0x0811d ∷ drive 10533 0 0x00200 ∷ drive 10566 7 0x00000 ∷ drive 10578 0 0x04200 ∷ drive 10611 7 0x0011e ∷ drive 10699 7 0x0811e ∷ drive 10711 0 0x00200 ∷ drive 10744 7 0x00000 ∷ drive 10756 0 0x04200 ∷ drive 10789 7 0x0001f ∷ drive 10877 7 0x0801f ∷ drive 10889 0 0x00200 ∷ drive 10922 7 0x00000 ∷ drive 10934 0 0x01a00 ∷ drive 11746 0 0x01a02 ∷ drive 11813 0 0x05a02 ∷ drive 11846 7 0x08000 ∷ drive 11858 0 0x01a00 ∷ drive 11891 7 0x00000 ∷ drive 11903 0 0x03b00 ∷ drive 12315 0 0x07b00 ∷ drive 12348 7 0x08000 ∷ drive 12360 0 0x03a00 ∷ drive 12393 7 0x00000 ∷ drive 12405 0 0x00000 ∷ drive 13638 7 0x00280 ∷ drive 16071 7 0x00680 ∷ drive 17304 7 0x10781 ∷ drive 17427 7 0x10581 ∷ drive 17839 0 0x00200 ∷ drive 17962 7 0x10000 ∷ drive 17974 0 0x02a00 ∷ drive 18386 0 0x06a00 ∷ drive 18419 7 0x00080 ∷ drive 18542 7 0x08080 ∷ drive 18554 0 0x02a00 ∷ drive 18587 7 0x00000 ∷ drive 18599 0 0x00a00 ∷ drive 19011 0 0x04a00 ∷ drive 19044 7 0x00103 ∷ drive 19132 7 0x08103 ∷ drive 19144 0 0x00a00 ∷ drive 19177 7 0x00000 ∷ drive 19189 0 0x04a00 ∷ drive 19222 7 0x00100 ∷ drive 19310 7 0x08100 ∷ drive 19322 0 0x00a00 ∷ drive 19355 7 0x00000 ∷ drive 19367 0 0x04a00 ∷ drive 19400 7 0x00100 ∷ drive 19488 7 0x08100 ∷ drive 19500 0 0x00a00 ∷ drive 19533 7 0x00000 ∷ drive 19545 0 0x04a00 ∷ drive 19578 7 0x00100 ∷ drive 19666 7 0x08100 ∷ drive 19678 0 0x00a00 ∷ drive 19711 7 0x00000 ∷ drive 19723 0 0x04a00 ∷ drive 19756 7 0x00112 ∷ drive 19844 7 0x08112 ∷ drive 19856 0 0x00a00 ∷ drive 19889 7 0x00000 ∷ drive 19901 0 0x04a00 ∷ drive 19934 7 0x00100 ∷ drive 20022 7 0x08100 ∷ drive 20034 0 0x00a00 ∷ drive 20067 7 0x00000 ∷ drive 20079 0 0x01200 ∷ drive 20891 0 0x01270 ∷ drive 20958 0 0x05270 ∷ drive 20991 7 0x08000 ∷ drive 21003 0 0x01300 ∷ drive 21036 7 0x00000 ∷ drive 21070 0 0x05300 ∷ drive 21103 7 0x08000 ∷ drive 21115 0 0x0120b ∷ drive 21148 7 0x00000 ∷ drive 21182 0 0x0520b ∷ drive 21215 7 0x08000 ∷ drive 21227 0 0x01300 ∷ drive 21260 7 0x00000 ∷ drive 21294 0 0x05300 ∷ drive 21327 7 0x08000 ∷ drive 21339 0 0x01300 ∷ drive 21372 7 0x00000 ∷ drive 21406 0 0x05300 ∷ drive 21439 7 0x08000 ∷ drive 21451 0 0x01300 ∷ drive 21484 7 0x00000 ∷ drive 21518 0 0x05300 ∷ drive 21551 7 0x08000 ∷ drive 21563 0 0x01300 ∷ drive 21596 7 0x00000 ∷ drive 21630 0 0x05300 ∷ drive 21663 7 0x08000 ∷ drive 21675 0 0x0130a ∷ drive 21708 7 0x00000 ∷ drive 21742 0 0x0530a ∷ drive 21775 7 0x08000 ∷ drive 21787 0 0x01300 ∷ drive 21820 7 0x00000 ∷ drive 21854 0 0x05300 ∷ drive 21887 7 0x08000 ∷ drive 21899 0 0x01300 ∷ drive 21932 7 0x00000 ∷ drive 21966 0 0x05300 ∷ drive 21999 7 0x08000 ∷ drive 22011 0 0x01300 ∷ drive 22044 7 0x00000 ∷ drive 22078 0 0x05300 ∷ drive 22111 7 0x08000 ∷ drive 22123 0 0x01300 ∷ drive 22156 7 0x00000 ∷ drive 22190 0 0x05300 ∷ drive 22223 7 0x08000 ∷ drive 22235 0 0x01347 ∷ drive 22268 7 0x00000 ∷ drive 22302 0 0x05347 ∷ drive 22335 7 0x08000 ∷ drive 22347 0 0x01300 ∷ drive 22380 7 0x00000 ∷ drive 22414 0 0x05300 ∷ drive 22447 7 0x08000 ∷ drive 22459 0 0x01300 ∷ drive 22492 7 0x00000 ∷ drive 22526 0 0x05300 ∷ drive 22559 7 0x08000 ∷ drive 22571 0 0x01300 ∷ drive 22604 7 0x00000 ∷ drive 22638 0 0x05300 ∷ drive 22671 7 0x08000 ∷ drive 22683 0 0x01300 ∷ drive 22716 7 0x00000 ∷ drive 22750 0 0x05300 ∷ drive 22783 7 0x08000 ∷ drive 22795 0 0x01300 ∷ drive 22828 7 0x00000 ∷ drive 22862 0 0x05300 ∷ drive 22895 7 0x08000 ∷ drive 22907 0 0x01200 ∷ drive 22940 7 0x00000 ∷ drive 22952 0 0x01b00 ∷ drive 23364 0 0x05b00 ∷ drive 23397 7 0x08000 ∷ drive 23409 0 0x01a00 ∷ drive 23442 7 0x00000 ∷ drive 23454 0 0x03b00 ∷ drive 23866 0 0x07b00 ∷ drive 23899 7 0x08000 ∷ drive 23911 0 0x03a00 ∷ drive 23944 7 0x00000 ∷ drive 23956 0 0x00000 ∷ drive 25189 7 0x00280 ∷ drive 27622 7 0x00680 ∷ drive 28855 7 0x10781 ∷ drive 28978 7 0x10581 ∷ drive 29390 0 0x00200 ∷ drive 29513 7 0x10000 ∷ drive 29525 0 0x02a00 ∷ drive 29937 0 0x06a00 ∷ drive 29970 7 0x001c0 ∷ drive 30093 7 0x081c0 ∷ drive 30105 0 0x02a00 ∷ drive 30138 7 0x00000 ∷ drive 30150 0 0x00a00 ∷ drive 30562 0 0x04a00 ∷ drive 30595 7 0x00112 ∷ drive 30683 7 0x08112 ∷ drive 30695 0 0x00a00 ∷ drive 30728 7 0x00000 ∷ drive 30740 0 0x04a00 ∷ drive 30773 7 0x00100 ∷ drive 30861 7 0x08100 ∷ drive 30873 0 0x00a00 ∷ drive 30906 7 0x00000 ∷ drive 30918 0 0x04a00 ∷ drive 30951 7 0x00100 ∷ drive 31039 7 0x08100 ∷ drive 31051 0 0x00a00 ∷ drive 31084 7 0x00000 ∷ drive 31096 0 0x04a00 ∷ drive 31129 7 0x00100 ∷ drive 31217 7 0x08100 ∷ drive 31229 0 0x00a00 ∷ drive 31262 7 0x00000 ∷ drive 31274 0 0x04a00 ∷ drive 31307 7 0x00103 ∷ drive 31395 7 0x08103 ∷ drive 31407 0 0x00a00 ∷ drive 31440 7 0x00000 ∷ drive 31452 0 0x04a00 ∷ drive 31485 7 0x00100 ∷ drive 31573 7 0x08100 ∷ drive 31585 0 0x00a00 ∷ drive 31618 7 0x00000 ∷ drive 31630 0 0x01200 ∷ drive 32442 0 0x01300 ∷ drive 32509 0 0x05300 ∷ strike 32509 7 5 ∷ drive 32542 7 0x18000 ∷ drive 32554 0 0x01300 ∷ drive 32665 7 0x10000 ∷ drive 32677 0 0x05300 ∷ drive 32710 7 0x18000 ∷ drive 32722 0 0x01202 ∷ drive 32755 7 0x10000 ∷ drive 32789 0 0x05202 ∷ drive 32822 7 0x18000 ∷ drive 32834 0 0x01200 ∷ drive 32867 7 0x10000 ∷ drive 32879 0 0x02a00 ∷ drive 33291 0 0x06a00 ∷ drive 33324 7 0x00105 ∷ drive 33447 7 0x08105 ∷ drive 33459 0 0x02a00 ∷ drive 33492 7 0x00000 ∷ drive 33504 0 0x01a00 ∷ drive 34316 0 0x01a02 ∷ drive 34383 0 0x05a02 ∷ drive 34416 7 0x08000 ∷ drive 34428 0 0x01a00 ∷ drive 34461 7 0x00000 ∷ drive 34473 0 0x03b00 ∷ drive 34885 0 0x07b00 ∷ drive 34918 7 0x08000 ∷ drive 34930 0 0x03a00 ∷ drive 34963 7 0x00000 ∷ drive 34975 0 0x00000 ∷ drive 36208 7 0x00280 ∷ drive 38641 7 0x00680 ∷ drive 39874 7 0x10781 ∷ drive 39997 7 0x10581 ∷ drive 40409 0 0x00200 ∷ drive 40532 7 0x10000 ∷ drive 40544 0 0x02a00 ∷ drive 40956 0 0x06a00 ∷ drive 40989 7 0x00080 ∷ drive 41112 7 0x08080 ∷ drive 41124 0 0x02a00 ∷ drive 41157 7 0x00000 ∷ drive 41169 0 0x00a00 ∷ drive 41581 0 0x04a00 ∷ drive 41614 7 0x00103 ∷ drive 41702 7 0x08103 ∷ drive 41714 0 0x00a00 ∷ drive 41747 7 0x00000 ∷ drive 41759 0 0x04a00 ∷ drive 41792 7 0x00100 ∷ drive 41880 7 0x08100 ∷ drive 41892 0 0x00a00 ∷ drive 41925 7 0x00000 ∷ drive 41937 0 0x04a00 ∷ drive 41970 7 0x00100 ∷ drive 42058 7 0x08100 ∷ drive 42070 0 0x00a00 ∷ drive 42103 7 0x00000 ∷ drive 42115 0 0x04a00 ∷ drive 42148 7 0x00100 ∷ drive 42236 7 0x08100 ∷ drive 42248 0 0x00a00 ∷ drive 42281 7 0x00000 ∷ drive 42293 0 0x04a00 ∷ drive 42326 7 0x00112 ∷ drive 42414 7 0x08112 ∷ drive 42426 0 0x00a00 ∷ drive 42459 7 0x00000 ∷ drive 42471 0 0x04a00 ∷ drive 42504 7 0x00100 ∷ drive 42592 7 0x08100 ∷ drive 42604 0 0x00a00 ∷ drive 42637 7 0x00000 ∷ drive 42649 0 0x01200 ∷ drive 43461 0 0x01270 ∷ drive 43528 0 0x05270 ∷ drive 43561 7 0x08000 ∷ drive 43573 0 0x01300 ∷ drive 43606 7 0x00000 ∷ drive 43640 0 0x05300 ∷ drive 43673 7 0x08000 ∷ drive 43685 0 0x0120b ∷ drive 43718 7 0x00000 ∷ drive 43752 0 0x0520b ∷ drive 43785 7 0x08000 ∷ drive 43797 0 0x01300 ∷ drive 43830 7 0x00000 ∷ drive 43864 0 0x05300 ∷ drive 43897 7 0x08000 ∷ drive 43909 0 0x01300 ∷ drive 43942 7 0x00000 ∷ drive 43976 0 0x05300 ∷ drive 44009 7 0x08000 ∷ drive 44021 0 0x01300 ∷ drive 44054 7 0x00000 ∷ drive 44088 0 0x05300 ∷ drive 44121 7 0x08000 ∷ drive 44133 0 0x01300 ∷ drive 44166 7 0x00000 ∷ drive 44200 0 0x05300 ∷ drive 44233 7 0x08000 ∷ drive 44245 0 0x0130a ∷ drive 44278 7 0x00000 ∷ drive 44312 0 0x0530a ∷ drive 44345 7 0x08000 ∷ drive 44357 0 0x01300 ∷ drive 44390 7 0x00000 ∷ drive 44424 0 0x05300 ∷ drive 44457 7 0x08000 ∷ drive 44469 0 0x01300 ∷ drive 44502 7 0x00000 ∷ drive 44536 0 0x05300 ∷ drive 44569 7 0x08000 ∷ drive 44581 0 0x01300 ∷ drive 44614 7 0x00000 ∷ drive 44648 0 0x05300 ∷ drive 44681 7 0x08000 ∷ drive 44693 0 0x01300 ∷ drive 44726 7 0x00000 ∷ drive 44760 0 0x05300 ∷ drive 44793 7 0x08000 ∷ drive 44805 0 0x01348 ∷ drive 44838 7 0x00000 ∷ drive 44872 0 0x05348 ∷ drive 44905 7 0x08000 ∷ drive 44917 0 0x01300 ∷ drive 44950 7 0x00000 ∷ drive 44984 0 0x05300 ∷ drive 45017 7 0x08000 ∷ drive 45029 0 0x01300 ∷ drive 45062 7 0x00000 ∷ drive 45096 0 0x05300 ∷ drive 45129 7 0x08000 ∷ drive 45141 0 0x01300 ∷ drive 45174 7 0x00000 ∷ drive 45208 0 0x05300 ∷ drive 45241 7 0x08000 ∷ drive 45253 0 0x01300 ∷ drive 45286 7 0x00000 ∷ drive 45320 0 0x05300 ∷ drive 45353 7 0x08000 ∷ drive 45365 0 0x01300 ∷ drive 45398 7 0x00000 ∷ drive 45432 0 0x05300 ∷ drive 45465 7 0x08000 ∷ drive 45477 0 0x01200 ∷ drive 45510 7 0x00000 ∷ drive 45522 0 0x01b00 ∷ drive 45934 0 0x05b00 ∷ drive 45967 7 0x08000 ∷ drive 45979 0 0x01a00 ∷ drive 46012 7 0x00000 ∷ drive 46024 0 0x03b00 ∷ drive 46436 0 0x07b00 ∷ drive 46469 7 0x08000 ∷ drive 46481 0 0x03a00 ∷ drive 46514 7 0x00000 ∷ drive 46526 0 0x00000 ∷ drive 47759 7 0x00280 ∷ drive 50192 7 0x00680 ∷ drive 51425 7 0x10781 ∷ drive 51548 7 0x10581 ∷ drive 51960 0 0x00200 ∷ drive 52083 7 0x10000 ∷ drive 52095 0 0x02a00 ∷ drive 52507 0 0x06a00 ∷ drive 52540 7 0x001c0 ∷ drive 52663 7 0x081c0 ∷ drive 52675 0 0x02a00 ∷ drive 52708 7 0x00000 ∷ drive 52720 0 0x00a00 ∷ drive 53132 0 0x04a00 ∷ drive 53165 7 0x00100 ∷ drive 53253 7 0x08100 ∷ drive 53265 0 0x00a00 ∷ drive 53298 7 0x00000 ∷ drive 53310 0 0x04a00 ∷ drive 53343 7 0x00100 ∷ drive 53431 7 0x08100 ∷ drive 53443 0 0x00a00 ∷ drive 53476 7 0x00000 ∷ drive 53488 0 0x04a00 ∷ drive 53521 7 0x00100 ∷ drive 53609 7 0x08100 ∷ drive 53621 0 0x00a00 ∷ drive 53654 7 0x00000 ∷ drive 53666 0 0x04a00 ∷ drive 53699 7 0x00100 ∷ drive 53787 7 0x08100 ∷ drive 53799 0 0x00a00 ∷ drive 53832 7 0x00000 ∷ drive 53844 0 0x04a00 ∷ drive 53877 7 0x00100 ∷ drive 53965 7 0x08100 ∷ drive 53977 0 0x00a00 ∷ drive 54010 7 0x00000 ∷ drive 54022 0 0x04a00 ∷ drive 54055 7 0x00100 ∷ drive 54143 7 0x08100 ∷ drive 54155 0 0x00a00 ∷ drive 54188 7 0x00000 ∷ drive 54200 0 0x01a00 ∷ drive 55012 0 0x01b00 ∷ drive 55079 0 0x05b00 ∷ strike 55079 7 1 ∷ drive 55112 7 0x18000 ∷ drive 55124 0 0x01a00 ∷ drive 55235 7 0x10000 ∷ drive 55247 0 0x02a00 ∷ drive 55659 0 0x06a00 ∷ drive 55692 7 0x00105 ∷ drive 55815 7 0x08105 ∷ drive 55827 0 0x02a00 ∷ drive 55860 7 0x00000 ∷ drive 55872 0 0x00000 ∷ []

abbrev given_up_due_events : List Event
given_up_due_events = events.Accept (command 1) ∷ events.Fail (command 1) 71 ∷ events.End (command 1) 2 ∷ events.Accept (sense 1) ∷ events.Run (sense 1) ∷ events.End (sense 1) 0 ∷ events.Accept (command 2) ∷ events.Fail (command 2) 72 ∷ events.End (command 2) 2 ∷ events.Accept (sense 2) ∷ events.Run (sense 2) ∷ events.End (sense 2) 0 ∷ events.Accept (command 3) ∷ events.Run (command 3) ∷ events.Lost (command 3) ∷ []

abbrev pub given_up_due_shown : Shows
given_up_due_shown = record { rows = reverse given_up_due_rows; history = reverse given_up_due_events; ended = true }

-- ---- held_reselection_due

abbrev pub held_reselection_due : ScenarioValue
held_reselection_due = record {
  version = 1;
  hosts = record { dev = 6; latency = 0; most = 2; retries = 2; period = 0; offset = 0; lag = 0; offers = true } ∷ [];
  targets = record { dev = 7; latency = 0; retries = 0; disc = policies.Command; pick = picks.First; seek = 10000; period = 0; offset = 0; begins = false } ∷ [];
  units = record { target = 7; unit = 0; blocks = 1; size = 16; depth = 2 } ∷ [];
  fills = [];
  tapes = [];
  loads = [];
  commands = record { host = 6; target = 7; unit = 0; at = 0; tag = tags.Simple 1; cdb = (8 ∷ 0 ∷ 0 ∷ 1 ∷ 1 ∷ 0 ∷ []); payload = payloads.Nothing } ∷ record { host = 6; target = 7; unit = 0; at = 0; tag = tags.Simple 2; cdb = (0 ∷ 0 ∷ 0 ∷ 0 ∷ 0 ∷ 0 ∷ []); payload = payloads.Nothing } ∷ [];
  aborts = [];
  resets = [];
  faults = record { at = 13900; bit = 0 } ∷ [];
}

abbrev pub held_reselection_due_rows : List Row
held_reselection_due_rows = drive 1200 6 0x00240 ∷ drive 3600 6 0x00640 ∷ drive 4800 6 0x107c0 ∷ drive 4890 6 0x105c0 ∷ drive 5290 7 0x00200 ∷ drive 5380 6 0x10000 ∷ drive 5380 7 0x02a00 ∷ drive 5780 7 0x06a00 ∷ drive 5780 6 0x101c0 ∷ drive 5835 6 0x181c0 ∷ drive 5835 7 0x02a00 ∷ drive 5835 6 0x10000 ∷ drive 5835 7 0x06a00 ∷ drive 5835 6 0x10020 ∷ drive 5890 6 0x18020 ∷ drive 5890 7 0x02a00 ∷ drive 5890 6 0x10000 ∷ drive 5890 7 0x06a00 ∷ drive 5890 6 0x00001 ∷ drive 5980 6 0x08001 ∷ drive 5980 7 0x02a00 ∷ drive 5980 6 0x00000 ∷ drive 5980 7 0x00a00 ∷ drive 6380 7 0x04a00 ∷ drive 6380 6 0x00008 ∷ drive 6435 6 0x08008 ∷ drive 6435 7 0x00a00 ∷ drive 6435 6 0x00000 ∷ drive 6435 7 0x04a00 ∷ drive 6435 6 0x00100 ∷ drive 6490 6 0x08100 ∷ drive 6490 7 0x00a00 ∷ drive 6490 6 0x00000 ∷ drive 6490 7 0x04a00 ∷ drive 6490 6 0x00100 ∷ drive 6545 6 0x08100 ∷ drive 6545 7 0x00a00 ∷ drive 6545 6 0x00000 ∷ drive 6545 7 0x04a00 ∷ drive 6545 6 0x00001 ∷ drive 6600 6 0x08001 ∷ drive 6600 7 0x00a00 ∷ drive 6600 6 0x00000 ∷ drive 6600 7 0x04a00 ∷ drive 6600 6 0x00001 ∷ drive 6655 6 0x08001 ∷ drive 6655 7 0x00a00 ∷ drive 6655 6 0x00000 ∷ drive 6655 7 0x04a00 ∷ drive 6655 6 0x00100 ∷ drive 6710 6 0x08100 ∷ drive 6710 7 0x00a00 ∷ drive 6710 6 0x00000 ∷ drive 6710 7 0x03a00 ∷ drive 7510 7 0x03a04 ∷ drive 7565 7 0x07a04 ∷ drive 7565 6 0x08000 ∷ drive 7565 7 0x03a00 ∷ drive 7565 6 0x00000 ∷ drive 7565 7 0x00000 ∷ drive 8765 6 0x00240 ∷ drive 11165 6 0x00640 ∷ drive 12365 6 0x107c0 ∷ drive 12455 6 0x105c0 ∷ drive 12855 7 0x00200 ∷ drive 12945 6 0x10000 ∷ drive 12945 7 0x02a00 ∷ drive 13345 7 0x06a00 ∷ drive 13345 6 0x101c0 ∷ drive 13400 6 0x181c0 ∷ drive 13400 7 0x02a00 ∷ drive 13400 6 0x10000 ∷ drive 13400 7 0x06a00 ∷ drive 13400 6 0x10020 ∷ drive 13455 6 0x18020 ∷ drive 13455 7 0x02a00 ∷ drive 13455 6 0x10000 ∷ drive 13455 7 0x06a00 ∷ drive 13455 6 0x00002 ∷ drive 13545 6 0x08002 ∷ drive 13545 7 0x02a00 ∷ drive 13545 6 0x00000 ∷ drive 13545 7 0x00a00 ∷ drive 13945 7 0x04a00 ∷ drive 13945 6 0x00100 ∷ drive 14000 6 0x08100 ∷ strike 14000 7 0 ∷ drive 14000 7 0x00a00 ∷ drive 14000 6 0x00000 ∷ drive 14000 7 0x01a00 ∷ drive 14800 7 0x01a02 ∷ drive 14855 7 0x05a02 ∷ drive 14855 6 0x08000 ∷ drive 14855 7 0x01a00 ∷ drive 14855 6 0x00000 ∷ drive 14855 7 0x03b00 ∷ drive 15255 7 0x07b00 ∷ drive 15255 6 0x08000 ∷ drive 15255 7 0x03a00 ∷ drive 15255 6 0x00000 ∷ drive 15255 7 0x00000 ∷ drive 16455 6 0x00240 ∷ drive 18855 6 0x00640 ∷ drive 20055 6 0x107c0 ∷ drive 20145 6 0x105c0 ∷ drive 20545 7 0x00200 ∷ drive 20635 6 0x10000 ∷ drive 20635 7 0x02a00 ∷ drive 21035 7 0x06a00 ∷ drive 21035 6 0x00080 ∷ drive 21125 6 0x08080 ∷ drive 21125 7 0x02a00 ∷ drive 21125 6 0x00000 ∷ drive 21125 7 0x00a00 ∷ drive 21525 7 0x04a00 ∷ drive 21525 6 0x00103 ∷ drive 21580 6 0x08103 ∷ drive 21580 7 0x00a00 ∷ drive 21580 6 0x00000 ∷ drive 21580 7 0x04a00 ∷ drive 21580 6 0x00100 ∷ drive 21635 6 0x08100 ∷ drive 21635 7 0x00a00 ∷ drive 21635 6 0x00000 ∷ drive 21635 7 0x04a00 ∷ drive 21635 6 0x00100 ∷ drive 21690 6 0x08100 ∷ drive 21690 7 0x00a00 ∷ drive 21690 6 0x00000 ∷ drive 21690 7 0x04a00 ∷ drive 21690 6 0x00100 ∷ drive 21745 6 0x08100 ∷ drive 21745 7 0x00a00 ∷ drive 21745 6 0x00000 ∷ drive 21745 7 0x04a00 ∷ drive 21745 6 0x00112 ∷ drive 21800 6 0x08112 ∷ drive 21800 7 0x00a00 ∷ drive 21800 6 0x00000 ∷ drive 21800 7 0x04a00 ∷ drive 21800 6 0x00100 ∷ drive 21855 6 0x08100 ∷ drive 21855 7 0x00a00 ∷ drive 21855 6 0x00000 ∷ drive 21855 7 0x01200 ∷ drive 22655 7 0x01270 ∷ drive 22710 7 0x05270 ∷ drive 22710 6 0x08000 ∷ drive 22710 7 0x01300 ∷ drive 22710 6 0x00000 ∷ drive 22765 7 0x05300 ∷ drive 22765 6 0x08000 ∷ drive 22765 7 0x0120b ∷ drive 22765 6 0x00000 ∷ drive 22820 7 0x0520b ∷ drive 22820 6 0x08000 ∷ drive 22820 7 0x01300 ∷ drive 22820 6 0x00000 ∷ drive 22875 7 0x05300 ∷ drive 22875 6 0x08000 ∷ drive 22875 7 0x01300 ∷ drive 22875 6 0x00000 ∷ drive 22930 7 0x05300 ∷ drive 22930 6 0x08000 ∷ drive 22930 7 0x01300 ∷ drive 22930 6 0x00000 ∷ drive 22985 7 0x05300 ∷ drive 22985 6 0x08000 ∷ drive 22985 7 0x01300 ∷ drive 22985 6 0x00000 ∷ drive 23040 7 0x05300 ∷ drive 23040 6 0x08000 ∷ drive 23040 7 0x0130a ∷ drive 23040 6 0x00000 ∷ drive 23095 7 0x0530a ∷ drive 23095 6 0x08000 ∷ drive 23095 7 0x01300 ∷ drive 23095 6 0x00000 ∷ drive 23150 7 0x05300 ∷ drive 23150 6 0x08000 ∷ drive 23150 7 0x01300 ∷ drive 23150 6 0x00000 ∷ drive 23205 7 0x05300 ∷ drive 23205 6 0x08000 ∷ drive 23205 7 0x01300 ∷ drive 23205 6 0x00000 ∷ drive 23260 7 0x05300 ∷ drive 23260 6 0x08000 ∷ drive 23260 7 0x01300 ∷ drive 23260 6 0x00000 ∷ drive 23315 7 0x05300 ∷ drive 23315 6 0x08000 ∷ drive 23315 7 0x01347 ∷ drive 23315 6 0x00000 ∷ drive 23370 7 0x05347 ∷ drive 23370 6 0x08000 ∷ drive 23370 7 0x01300 ∷ drive 23370 6 0x00000 ∷ drive 23425 7 0x05300 ∷ drive 23425 6 0x08000 ∷ drive 23425 7 0x01300 ∷ drive 23425 6 0x00000 ∷ drive 23480 7 0x05300 ∷ drive 23480 6 0x08000 ∷ drive 23480 7 0x01300 ∷ drive 23480 6 0x00000 ∷ drive 23535 7 0x05300 ∷ drive 23535 6 0x08000 ∷ drive 23535 7 0x01300 ∷ drive 23535 6 0x00000 ∷ drive 23590 7 0x05300 ∷ drive 23590 6 0x08000 ∷ drive 23590 7 0x01300 ∷ drive 23590 6 0x00000 ∷ drive 23645 7 0x05300 ∷ drive 23645 6 0x08000 ∷ drive 23645 7 0x01200 ∷ drive 23645 6 0x00000 ∷ drive 23645 7 0x01b00 ∷ drive 24045 7 0x05b00 ∷ drive 24045 6 0x08000 ∷ drive 24045 7 0x01a00 ∷ drive 24045 6 0x00000 ∷ drive 24045 7 0x03b00 ∷ drive 24445 7 0x07b00 ∷ drive 24445 6 0x08000 ∷ drive 24445 7 0x03a00 ∷ drive 24445 6 0x00000 ∷ drive 24445 7 0x00000 ∷ drive 25645 7 0x00280 ∷ drive 28045 7 0x00680 ∷ drive 29245 7 0x017c0 ∷ drive 29335 7 0x015c0 ∷ drive 29735 6 0x00200 ∷ drive 29735 7 0x017c0 ∷ drive 29825 7 0x03a80 ∷ drive 29825 6 0x00000 ∷ drive 30225 7 0x07a80 ∷ drive 30225 6 0x08000 ∷ drive 30225 7 0x03a20 ∷ drive 30225 6 0x00000 ∷ drive 30280 7 0x07a20 ∷ drive 30280 6 0x08000 ∷ drive 30280 7 0x03a01 ∷ drive 30280 6 0x00000 ∷ drive 30335 7 0x07a01 ∷ drive 30335 6 0x08000 ∷ drive 30335 7 0x03a00 ∷ drive 30335 6 0x00000 ∷ drive 30335 7 0x01a02 ∷ drive 30735 7 0x05a02 ∷ drive 30735 6 0x08000 ∷ drive 30735 7 0x01a00 ∷ drive 30735 6 0x00000 ∷ drive 30735 7 0x03b00 ∷ drive 31135 7 0x07b00 ∷ drive 31135 6 0x08000 ∷ drive 31135 7 0x03a00 ∷ drive 31135 6 0x00000 ∷ drive 31135 7 0x00000 ∷ drive 32335 6 0x00240 ∷ drive 34735 6 0x00640 ∷ drive 35935 6 0x107c0 ∷ drive 36025 6 0x105c0 ∷ drive 36425 7 0x00200 ∷ drive 36515 6 0x10000 ∷ drive 36515 7 0x02a00 ∷ drive 36915 7 0x06a00 ∷ drive 36915 6 0x00080 ∷ drive 37005 6 0x08080 ∷ drive 37005 7 0x02a00 ∷ drive 37005 6 0x00000 ∷ drive 37005 7 0x00a00 ∷ drive 37405 7 0x04a00 ∷ drive 37405 6 0x00103 ∷ drive 37460 6 0x08103 ∷ drive 37460 7 0x00a00 ∷ drive 37460 6 0x00000 ∷ drive 37460 7 0x04a00 ∷ drive 37460 6 0x00100 ∷ drive 37515 6 0x08100 ∷ drive 37515 7 0x00a00 ∷ drive 37515 6 0x00000 ∷ drive 37515 7 0x04a00 ∷ drive 37515 6 0x00100 ∷ drive 37570 6 0x08100 ∷ drive 37570 7 0x00a00 ∷ drive 37570 6 0x00000 ∷ drive 37570 7 0x04a00 ∷ drive 37570 6 0x00100 ∷ drive 37625 6 0x08100 ∷ drive 37625 7 0x00a00 ∷ drive 37625 6 0x00000 ∷ drive 37625 7 0x04a00 ∷ drive 37625 6 0x00112 ∷ drive 37680 6 0x08112 ∷ drive 37680 7 0x00a00 ∷ drive 37680 6 0x00000 ∷ drive 37680 7 0x04a00 ∷ drive 37680 6 0x00100 ∷ drive 37735 6 0x08100 ∷ drive 37735 7 0x00a00 ∷ drive 37735 6 0x00000 ∷ drive 37735 7 0x01200 ∷ drive 38535 7 0x01270 ∷ drive 38590 7 0x05270 ∷ drive 38590 6 0x08000 ∷ drive 38590 7 0x01300 ∷ drive 38590 6 0x00000 ∷ drive 38645 7 0x05300 ∷ drive 38645 6 0x08000 ∷ drive 38645 7 0x01305 ∷ drive 38645 6 0x00000 ∷ drive 38700 7 0x05305 ∷ drive 38700 6 0x08000 ∷ drive 38700 7 0x01300 ∷ drive 38700 6 0x00000 ∷ drive 38755 7 0x05300 ∷ drive 38755 6 0x08000 ∷ drive 38755 7 0x01300 ∷ drive 38755 6 0x00000 ∷ drive 38810 7 0x05300 ∷ drive 38810 6 0x08000 ∷ drive 38810 7 0x01300 ∷ drive 38810 6 0x00000 ∷ drive 38865 7 0x05300 ∷ drive 38865 6 0x08000 ∷ drive 38865 7 0x01300 ∷ drive 38865 6 0x00000 ∷ drive 38920 7 0x05300 ∷ drive 38920 6 0x08000 ∷ drive 38920 7 0x0130a ∷ drive 38920 6 0x00000 ∷ drive 38975 7 0x0530a ∷ drive 38975 6 0x08000 ∷ drive 38975 7 0x01300 ∷ drive 38975 6 0x00000 ∷ drive 39030 7 0x05300 ∷ drive 39030 6 0x08000 ∷ drive 39030 7 0x01300 ∷ drive 39030 6 0x00000 ∷ drive 39085 7 0x05300 ∷ drive 39085 6 0x08000 ∷ drive 39085 7 0x01300 ∷ drive 39085 6 0x00000 ∷ drive 39140 7 0x05300 ∷ drive 39140 6 0x08000 ∷ drive 39140 7 0x01300 ∷ drive 39140 6 0x00000 ∷ drive 39195 7 0x05300 ∷ drive 39195 6 0x08000 ∷ drive 39195 7 0x01321 ∷ drive 39195 6 0x00000 ∷ drive 39250 7 0x05321 ∷ drive 39250 6 0x08000 ∷ drive 39250 7 0x01300 ∷ drive 39250 6 0x00000 ∷ drive 39305 7 0x05300 ∷ drive 39305 6 0x08000 ∷ drive 39305 7 0x01300 ∷ drive 39305 6 0x00000 ∷ drive 39360 7 0x05300 ∷ drive 39360 6 0x08000 ∷ drive 39360 7 0x01300 ∷ drive 39360 6 0x00000 ∷ drive 39415 7 0x05300 ∷ drive 39415 6 0x08000 ∷ drive 39415 7 0x01300 ∷ drive 39415 6 0x00000 ∷ drive 39470 7 0x05300 ∷ drive 39470 6 0x08000 ∷ drive 39470 7 0x01300 ∷ drive 39470 6 0x00000 ∷ drive 39525 7 0x05300 ∷ drive 39525 6 0x08000 ∷ drive 39525 7 0x01200 ∷ drive 39525 6 0x00000 ∷ drive 39525 7 0x01b00 ∷ drive 39925 7 0x05b00 ∷ drive 39925 6 0x08000 ∷ drive 39925 7 0x01a00 ∷ drive 39925 6 0x00000 ∷ drive 39925 7 0x03b00 ∷ drive 40325 7 0x07b00 ∷ drive 40325 6 0x08000 ∷ drive 40325 7 0x03a00 ∷ drive 40325 6 0x00000 ∷ drive 40325 7 0x00000 ∷ []

abbrev held_reselection_due_events : List Event
held_reselection_due_events = events.Accept (command 1) ∷ events.Fail (command 2) 71 ∷ events.End (command 2) 2 ∷ events.Accept (sense 2) ∷ events.Run (sense 2) ∷ events.End (sense 2) 0 ∷ events.Run (command 1) ∷ events.End (command 1) 2 ∷ events.Accept (sense 1) ∷ events.Run (sense 1) ∷ events.End (sense 1) 0 ∷ []

abbrev pub held_reselection_due_shown : Shows
held_reselection_due_shown = record { rows = reverse held_reselection_due_rows; history = reverse held_reselection_due_events; ended = true }

-- ---- hold_of_a_unit_due

abbrev pub hold_of_a_unit_due : ScenarioValue
hold_of_a_unit_due = record {
  version = 1;
  hosts = record { dev = 6; latency = 0; most = 1; retries = 2; period = 0; offset = 0; lag = 0; offers = true } ∷ record { dev = 5; latency = 0; most = 1; retries = 2; period = 0; offset = 0; lag = 0; offers = true } ∷ [];
  targets = record { dev = 7; latency = 10; retries = 2; disc = policies.Command; pick = picks.First; seek = 1500; period = 0; offset = 0; begins = false } ∷ [];
  units = record { target = 7; unit = 0; blocks = 1; size = 16; depth = 2 } ∷ [];
  fills = [];
  tapes = [];
  loads = [];
  commands = record { host = 6; target = 7; unit = 0; at = 0; tag = tags.Untagged; cdb = (1 ∷ 0 ∷ 0 ∷ 0 ∷ 0 ∷ 0 ∷ []); payload = payloads.Nothing } ∷ record { host = 5; target = 7; unit = 0; at = 0; tag = tags.Untagged; cdb = (0 ∷ 0 ∷ 0 ∷ 0 ∷ 0 ∷ 0 ∷ []); payload = payloads.Nothing } ∷ [];
  aborts = [];
  resets = [];
  faults = [];
}

abbrev pub hold_of_a_unit_due_rows : List Row
hold_of_a_unit_due_rows = drive 1200 6 0x00240 ∷ drive 1200 5 0x00220 ∷ drive 3600 6 0x00640 ∷ drive 3600 5 0x00000 ∷ drive 4800 6 0x107c0 ∷ drive 4890 6 0x105c0 ∷ drive 5300 7 0x00200 ∷ drive 5390 6 0x10000 ∷ drive 5400 7 0x02a00 ∷ drive 5810 7 0x06a00 ∷ drive 5810 6 0x001c0 ∷ drive 5900 6 0x081c0 ∷ drive 5910 7 0x02a00 ∷ drive 5910 6 0x00000 ∷ drive 5920 7 0x00a00 ∷ drive 6330 7 0x04a00 ∷ drive 6330 6 0x00001 ∷ drive 6385 6 0x08001 ∷ drive 6395 7 0x00a00 ∷ drive 6395 6 0x00000 ∷ drive 6405 7 0x04a00 ∷ drive 6405 6 0x00100 ∷ drive 6460 6 0x08100 ∷ drive 6470 7 0x00a00 ∷ drive 6470 6 0x00000 ∷ drive 6480 7 0x04a00 ∷ drive 6480 6 0x00100 ∷ drive 6535 6 0x08100 ∷ drive 6545 7 0x00a00 ∷ drive 6545 6 0x00000 ∷ drive 6555 7 0x04a00 ∷ drive 6555 6 0x00100 ∷ drive 6610 6 0x08100 ∷ drive 6620 7 0x00a00 ∷ drive 6620 6 0x00000 ∷ drive 6630 7 0x04a00 ∷ drive 6630 6 0x00100 ∷ drive 6685 6 0x08100 ∷ drive 6695 7 0x00a00 ∷ drive 6695 6 0x00000 ∷ drive 6705 7 0x04a00 ∷ drive 6705 6 0x00100 ∷ drive 6760 6 0x08100 ∷ drive 6770 7 0x00a00 ∷ drive 6770 6 0x00000 ∷ drive 6780 7 0x03a00 ∷ drive 7590 7 0x03a04 ∷ drive 7655 7 0x07a04 ∷ drive 7655 6 0x08000 ∷ drive 7665 7 0x03a00 ∷ drive 7665 6 0x00000 ∷ drive 7675 7 0x00000 ∷ drive 8875 5 0x00220 ∷ drive 8885 7 0x00280 ∷ drive 11295 7 0x00680 ∷ drive 11295 5 0x00000 ∷ drive 12505 7 0x017c0 ∷ drive 12605 7 0x015c0 ∷ drive 13005 6 0x00200 ∷ drive 13015 7 0x017c0 ∷ drive 13115 7 0x03a80 ∷ drive 13115 6 0x00000 ∷ drive 13525 7 0x07a80 ∷ drive 13525 6 0x08000 ∷ drive 13535 7 0x03a00 ∷ drive 13535 6 0x00000 ∷ drive 13545 7 0x01a02 ∷ drive 13955 7 0x05a02 ∷ drive 13955 6 0x08000 ∷ drive 13965 7 0x01a00 ∷ drive 13965 6 0x00000 ∷ drive 13975 7 0x03b00 ∷ drive 14385 7 0x07b00 ∷ drive 14385 6 0x08000 ∷ drive 14395 7 0x03a00 ∷ drive 14395 6 0x00000 ∷ drive 14405 7 0x00000 ∷ drive 15605 6 0x00240 ∷ drive 15605 5 0x00220 ∷ drive 18005 6 0x00640 ∷ drive 18005 5 0x00000 ∷ drive 19205 6 0x107c0 ∷ drive 19295 6 0x105c0 ∷ drive 19705 7 0x00200 ∷ drive 19795 6 0x10000 ∷ drive 19805 7 0x02a00 ∷ drive 20215 7 0x06a00 ∷ drive 20215 6 0x00080 ∷ drive 20305 6 0x08080 ∷ drive 20315 7 0x02a00 ∷ drive 20315 6 0x00000 ∷ drive 20325 7 0x00a00 ∷ drive 20735 7 0x04a00 ∷ drive 20735 6 0x00103 ∷ drive 20790 6 0x08103 ∷ drive 20800 7 0x00a00 ∷ drive 20800 6 0x00000 ∷ drive 20810 7 0x04a00 ∷ drive 20810 6 0x00100 ∷ drive 20865 6 0x08100 ∷ drive 20875 7 0x00a00 ∷ drive 20875 6 0x00000 ∷ drive 20885 7 0x04a00 ∷ drive 20885 6 0x00100 ∷ drive 20940 6 0x08100 ∷ drive 20950 7 0x00a00 ∷ drive 20950 6 0x00000 ∷ drive 20960 7 0x04a00 ∷ drive 20960 6 0x00100 ∷ drive 21015 6 0x08100 ∷ drive 21025 7 0x00a00 ∷ drive 21025 6 0x00000 ∷ drive 21035 7 0x04a00 ∷ drive 21035 6 0x00112 ∷ drive 21090 6 0x08112 ∷ drive 21100 7 0x00a00 ∷ drive 21100 6 0x00000 ∷ drive 21110 7 0x04a00 ∷ drive 21110 6 0x00100 ∷ drive 21165 6 0x08100 ∷ drive 21175 7 0x00a00 ∷ drive 21175 6 0x00000 ∷ drive 21185 7 0x01200 ∷ drive 21995 7 0x01270 ∷ drive 22060 7 0x05270 ∷ drive 22060 6 0x08000 ∷ drive 22070 7 0x01300 ∷ drive 22070 6 0x00000 ∷ drive 22135 7 0x05300 ∷ drive 22135 6 0x08000 ∷ drive 22145 7 0x01305 ∷ drive 22145 6 0x00000 ∷ drive 22210 7 0x05305 ∷ drive 22210 6 0x08000 ∷ drive 22220 7 0x01300 ∷ drive 22220 6 0x00000 ∷ drive 22285 7 0x05300 ∷ drive 22285 6 0x08000 ∷ drive 22295 7 0x01300 ∷ drive 22295 6 0x00000 ∷ drive 22360 7 0x05300 ∷ drive 22360 6 0x08000 ∷ drive 22370 7 0x01300 ∷ drive 22370 6 0x00000 ∷ drive 22435 7 0x05300 ∷ drive 22435 6 0x08000 ∷ drive 22445 7 0x01300 ∷ drive 22445 6 0x00000 ∷ drive 22510 7 0x05300 ∷ drive 22510 6 0x08000 ∷ drive 22520 7 0x0130a ∷ drive 22520 6 0x00000 ∷ drive 22585 7 0x0530a ∷ drive 22585 6 0x08000 ∷ drive 22595 7 0x01300 ∷ drive 22595 6 0x00000 ∷ drive 22660 7 0x05300 ∷ drive 22660 6 0x08000 ∷ drive 22670 7 0x01300 ∷ drive 22670 6 0x00000 ∷ drive 22735 7 0x05300 ∷ drive 22735 6 0x08000 ∷ drive 22745 7 0x01300 ∷ drive 22745 6 0x00000 ∷ drive 22810 7 0x05300 ∷ drive 22810 6 0x08000 ∷ drive 22820 7 0x01300 ∷ drive 22820 6 0x00000 ∷ drive 22885 7 0x05300 ∷ drive 22885 6 0x08000 ∷ drive 22895 7 0x01220 ∷ drive 22895 6 0x00000 ∷ drive 22960 7 0x05220 ∷ drive 22960 6 0x08000 ∷ drive 22970 7 0x01300 ∷ drive 22970 6 0x00000 ∷ drive 23035 7 0x05300 ∷ drive 23035 6 0x08000 ∷ drive 23045 7 0x01300 ∷ drive 23045 6 0x00000 ∷ drive 23110 7 0x05300 ∷ drive 23110 6 0x08000 ∷ drive 23120 7 0x01300 ∷ drive 23120 6 0x00000 ∷ drive 23185 7 0x05300 ∷ drive 23185 6 0x08000 ∷ drive 23195 7 0x01300 ∷ drive 23195 6 0x00000 ∷ drive 23260 7 0x05300 ∷ drive 23260 6 0x08000 ∷ drive 23270 7 0x01300 ∷ drive 23270 6 0x00000 ∷ drive 23335 7 0x05300 ∷ drive 23335 6 0x08000 ∷ drive 23345 7 0x01200 ∷ drive 23345 6 0x00000 ∷ drive 23355 7 0x01b00 ∷ drive 23765 7 0x05b00 ∷ drive 23765 6 0x08000 ∷ drive 23775 7 0x01a00 ∷ drive 23775 6 0x00000 ∷ drive 23785 7 0x03b00 ∷ drive 24195 7 0x07b00 ∷ drive 24195 6 0x08000 ∷ drive 24205 7 0x03a00 ∷ drive 24205 6 0x00000 ∷ drive 24215 7 0x00000 ∷ drive 25415 5 0x00220 ∷ drive 27815 5 0x00620 ∷ drive 29015 5 0x107a0 ∷ drive 29105 5 0x105a0 ∷ drive 29515 7 0x00200 ∷ drive 29605 5 0x10000 ∷ drive 29615 7 0x02a00 ∷ drive 30025 7 0x06a00 ∷ drive 30025 5 0x001c0 ∷ drive 30115 5 0x081c0 ∷ drive 30125 7 0x02a00 ∷ drive 30125 5 0x00000 ∷ drive 30135 7 0x00a00 ∷ drive 30545 7 0x04a00 ∷ drive 30545 5 0x00100 ∷ drive 30600 5 0x08100 ∷ drive 30610 7 0x00a00 ∷ drive 30610 5 0x00000 ∷ drive 30620 7 0x04a00 ∷ drive 30620 5 0x00100 ∷ drive 30675 5 0x08100 ∷ drive 30685 7 0x00a00 ∷ drive 30685 5 0x00000 ∷ drive 30695 7 0x04a00 ∷ drive 30695 5 0x00100 ∷ drive 30750 5 0x08100 ∷ drive 30760 7 0x00a00 ∷ drive 30760 5 0x00000 ∷ drive 30770 7 0x04a00 ∷ drive 30770 5 0x00100 ∷ drive 30825 5 0x08100 ∷ drive 30835 7 0x00a00 ∷ drive 30835 5 0x00000 ∷ drive 30845 7 0x04a00 ∷ drive 30845 5 0x00100 ∷ drive 30900 5 0x08100 ∷ drive 30910 7 0x00a00 ∷ drive 30910 5 0x00000 ∷ drive 30920 7 0x04a00 ∷ drive 30920 5 0x00100 ∷ drive 30975 5 0x08100 ∷ drive 30985 7 0x00a00 ∷ drive 30985 5 0x00000 ∷ drive 30995 7 0x03a00 ∷ drive 31805 7 0x03a04 ∷ drive 31870 7 0x07a04 ∷ drive 31870 5 0x08000 ∷ drive 31880 7 0x03a00 ∷ drive 31880 5 0x00000 ∷ drive 31890 7 0x00000 ∷ drive 33100 7 0x00280 ∷ drive 35510 7 0x00680 ∷ drive 36720 7 0x017a0 ∷ drive 36820 7 0x015a0 ∷ drive 37220 5 0x00200 ∷ drive 37230 7 0x017a0 ∷ drive 37330 7 0x03a80 ∷ drive 37330 5 0x00000 ∷ drive 37740 7 0x07a80 ∷ drive 37740 5 0x08000 ∷ drive 37750 7 0x03a00 ∷ drive 37750 5 0x00000 ∷ drive 37760 7 0x01b00 ∷ drive 38170 7 0x05b00 ∷ drive 38170 5 0x08000 ∷ drive 38180 7 0x01a00 ∷ drive 38180 5 0x00000 ∷ drive 38190 7 0x03b00 ∷ drive 38600 7 0x07b00 ∷ drive 38600 5 0x08000 ∷ drive 38610 7 0x03a00 ∷ drive 38610 5 0x00000 ∷ drive 38620 7 0x00000 ∷ []

abbrev hold_of_a_unit_due_events : List Event
hold_of_a_unit_due_events = events.Accept (command 1) ∷ events.Run (command 1) ∷ events.End (command 1) 2 ∷ events.Accept (sense 1) ∷ events.Run (sense 1) ∷ events.End (sense 1) 0 ∷ events.Accept (command 2) ∷ events.Run (command 2) ∷ events.End (command 2) 0 ∷ []

abbrev pub hold_of_a_unit_due_shown : Shows
hold_of_a_unit_due_shown = record { rows = reverse hold_of_a_unit_due_rows; history = reverse hold_of_a_unit_due_events; ended = true }

-- ---- late_entry_due

abbrev pub late_entry_due : ScenarioValue
late_entry_due = record {
  version = 1;
  hosts = record { dev = 7; latency = 0; most = 1; retries = 2; period = 0; offset = 0; lag = 0; offers = true } ∷ record { dev = 6; latency = 0; most = 1; retries = 2; period = 0; offset = 0; lag = 0; offers = true } ∷ record { dev = 5; latency = 1; most = 1; retries = 2; period = 0; offset = 0; lag = 0; offers = true } ∷ [];
  targets = record { dev = 0; latency = 20; retries = 2; disc = policies.Never; pick = picks.First; seek = 0; period = 0; offset = 0; begins = false } ∷ [];
  units = record { target = 0; unit = 0; blocks = 1; size = 16; depth = 1 } ∷ [];
  fills = [];
  tapes = [];
  loads = [];
  commands = record { host = 7; target = 0; unit = 0; at = 0; tag = tags.Untagged; cdb = (0 ∷ 0 ∷ 0 ∷ 0 ∷ 0 ∷ 0 ∷ []); payload = payloads.Nothing } ∷ record { host = 6; target = 0; unit = 0; at = 3000; tag = tags.Untagged; cdb = (0 ∷ 0 ∷ 0 ∷ 0 ∷ 0 ∷ 0 ∷ []); payload = payloads.Nothing } ∷ record { host = 5; target = 0; unit = 0; at = 3000; tag = tags.Untagged; cdb = (0 ∷ 0 ∷ 0 ∷ 0 ∷ 0 ∷ 0 ∷ []); payload = payloads.Nothing } ∷ [];
  aborts = [];
  resets = [];
  faults = [];
}

abbrev pub late_entry_due_rows : List Row
late_entry_due_rows = drive 1200 7 0x00280 ∷ drive 3000 6 0x00240 ∷ drive 3600 7 0x00680 ∷ drive 3600 6 0x00000 ∷ drive 4800 7 0x10781 ∷ drive 4890 7 0x10581 ∷ drive 5310 0 0x00200 ∷ drive 5400 7 0x10000 ∷ drive 5420 0 0x02a00 ∷ drive 5840 0 0x06a00 ∷ drive 5840 7 0x001c0 ∷ drive 5930 7 0x081c0 ∷ drive 5950 0 0x02a00 ∷ drive 5950 7 0x00000 ∷ drive 5970 0 0x00a00 ∷ drive 6390 0 0x04a00 ∷ drive 6390 7 0x00100 ∷ drive 6445 7 0x08100 ∷ drive 6465 0 0x00a00 ∷ drive 6465 7 0x00000 ∷ drive 6485 0 0x04a00 ∷ drive 6485 7 0x00100 ∷ drive 6540 7 0x08100 ∷ drive 6560 0 0x00a00 ∷ drive 6560 7 0x00000 ∷ drive 6580 0 0x04a00 ∷ drive 6580 7 0x00100 ∷ drive 6635 7 0x08100 ∷ drive 6655 0 0x00a00 ∷ drive 6655 7 0x00000 ∷ drive 6675 0 0x04a00 ∷ drive 6675 7 0x00100 ∷ drive 6730 7 0x08100 ∷ drive 6750 0 0x00a00 ∷ drive 6750 7 0x00000 ∷ drive 6770 0 0x04a00 ∷ drive 6770 7 0x00100 ∷ drive 6825 7 0x08100 ∷ drive 6845 0 0x00a00 ∷ drive 6845 7 0x00000 ∷ drive 6865 0 0x04a00 ∷ drive 6865 7 0x00100 ∷ drive 6920 7 0x08100 ∷ drive 6940 0 0x00a00 ∷ drive 6940 7 0x00000 ∷ drive 6960 0 0x01a00 ∷ drive 7780 0 0x01b00 ∷ drive 7855 0 0x05b00 ∷ drive 7855 7 0x08000 ∷ drive 7875 0 0x01a00 ∷ drive 7875 7 0x00000 ∷ drive 7895 0 0x03b00 ∷ drive 8315 0 0x07b00 ∷ drive 8315 7 0x08000 ∷ drive 8335 0 0x03a00 ∷ drive 8335 7 0x00000 ∷ drive 8355 0 0x00000 ∷ drive 9555 6 0x00240 ∷ drive 9556 5 0x00220 ∷ drive 11955 6 0x00640 ∷ drive 11956 5 0x00000 ∷ drive 13155 6 0x10741 ∷ drive 13245 6 0x10541 ∷ drive 13665 0 0x00200 ∷ drive 13755 6 0x10000 ∷ drive 13775 0 0x02a00 ∷ drive 14195 0 0x06a00 ∷ drive 14195 6 0x001c0 ∷ drive 14285 6 0x081c0 ∷ drive 14305 0 0x02a00 ∷ drive 14305 6 0x00000 ∷ drive 14325 0 0x00a00 ∷ drive 14745 0 0x04a00 ∷ drive 14745 6 0x00100 ∷ drive 14800 6 0x08100 ∷ drive 14820 0 0x00a00 ∷ drive 14820 6 0x00000 ∷ drive 14840 0 0x04a00 ∷ drive 14840 6 0x00100 ∷ drive 14895 6 0x08100 ∷ drive 14915 0 0x00a00 ∷ drive 14915 6 0x00000 ∷ drive 14935 0 0x04a00 ∷ drive 14935 6 0x00100 ∷ drive 14990 6 0x08100 ∷ drive 15010 0 0x00a00 ∷ drive 15010 6 0x00000 ∷ drive 15030 0 0x04a00 ∷ drive 15030 6 0x00100 ∷ drive 15085 6 0x08100 ∷ drive 15105 0 0x00a00 ∷ drive 15105 6 0x00000 ∷ drive 15125 0 0x04a00 ∷ drive 15125 6 0x00100 ∷ drive 15180 6 0x08100 ∷ drive 15200 0 0x00a00 ∷ drive 15200 6 0x00000 ∷ drive 15220 0 0x04a00 ∷ drive 15220 6 0x00100 ∷ drive 15275 6 0x08100 ∷ drive 15295 0 0x00a00 ∷ drive 15295 6 0x00000 ∷ drive 15315 0 0x01a00 ∷ drive 16135 0 0x01b00 ∷ drive 16210 0 0x05b00 ∷ drive 16210 6 0x08000 ∷ drive 16230 0 0x01a00 ∷ drive 16230 6 0x00000 ∷ drive 16250 0 0x03b00 ∷ drive 16670 0 0x07b00 ∷ drive 16670 6 0x08000 ∷ drive 16690 0 0x03a00 ∷ drive 16690 6 0x00000 ∷ drive 16710 0 0x00000 ∷ drive 17911 5 0x00220 ∷ drive 20312 5 0x00620 ∷ drive 21513 5 0x10721 ∷ drive 21604 5 0x10521 ∷ drive 22024 0 0x00200 ∷ drive 22115 5 0x10000 ∷ drive 22135 0 0x02a00 ∷ drive 22555 0 0x06a00 ∷ drive 22556 5 0x001c0 ∷ drive 22647 5 0x081c0 ∷ drive 22667 0 0x02a00 ∷ drive 22668 5 0x00000 ∷ drive 22688 0 0x00a00 ∷ drive 23108 0 0x04a00 ∷ drive 23109 5 0x00100 ∷ drive 23165 5 0x08100 ∷ drive 23185 0 0x00a00 ∷ drive 23186 5 0x00000 ∷ drive 23206 0 0x04a00 ∷ drive 23207 5 0x00100 ∷ drive 23263 5 0x08100 ∷ drive 23283 0 0x00a00 ∷ drive 23284 5 0x00000 ∷ drive 23304 0 0x04a00 ∷ drive 23305 5 0x00100 ∷ drive 23361 5 0x08100 ∷ drive 23381 0 0x00a00 ∷ drive 23382 5 0x00000 ∷ drive 23402 0 0x04a00 ∷ drive 23403 5 0x00100 ∷ drive 23459 5 0x08100 ∷ drive 23479 0 0x00a00 ∷ drive 23480 5 0x00000 ∷ drive 23500 0 0x04a00 ∷ drive 23501 5 0x00100 ∷ drive 23557 5 0x08100 ∷ drive 23577 0 0x00a00 ∷ drive 23578 5 0x00000 ∷ drive 23598 0 0x04a00 ∷ drive 23599 5 0x00100 ∷ drive 23655 5 0x08100 ∷ drive 23675 0 0x00a00 ∷ drive 23676 5 0x00000 ∷ drive 23696 0 0x01a00 ∷ drive 24516 0 0x01b00 ∷ drive 24591 0 0x05b00 ∷ drive 24592 5 0x08000 ∷ drive 24612 0 0x01a00 ∷ drive 24613 5 0x00000 ∷ drive 24633 0 0x03b00 ∷ drive 25053 0 0x07b00 ∷ drive 25054 5 0x08000 ∷ drive 25074 0 0x03a00 ∷ drive 25075 5 0x00000 ∷ drive 25095 0 0x00000 ∷ []

abbrev late_entry_due_events : List Event
late_entry_due_events = events.Accept (command 1) ∷ events.Run (command 1) ∷ events.End (command 1) 0 ∷ events.Accept (command 2) ∷ events.Run (command 2) ∷ events.End (command 2) 0 ∷ events.Accept (command 3) ∷ events.Run (command 3) ∷ events.End (command 3) 0 ∷ []

abbrev pub late_entry_due_shown : Shows
late_entry_due_shown = record { rows = reverse late_entry_due_rows; history = reverse late_entry_due_events; ended = true }

-- ---- lost_due

abbrev pub lost_due : ScenarioValue
lost_due = record {
  version = 1;
  hosts = record { dev = 7; latency = 0; most = 1; retries = 2; period = 0; offset = 0; lag = 0; offers = true } ∷ [];
  targets = record { dev = 0; latency = 0; retries = 1; disc = policies.Never; pick = picks.First; seek = 0; period = 0; offset = 0; begins = false } ∷ [];
  units = record { target = 0; unit = 0; blocks = 1; size = 16; depth = 1 } ∷ [];
  fills = record { target = 0; unit = 0; lba = 0; bytes = (0 ∷ 1 ∷ 2 ∷ 3 ∷ 4 ∷ 5 ∷ 6 ∷ 7 ∷ 8 ∷ 9 ∷ 10 ∷ 11 ∷ 12 ∷ 13 ∷ 14 ∷ 15 ∷ []) } ∷ [];
  tapes = [];
  loads = [];
  commands = record { host = 7; target = 0; unit = 0; at = 0; tag = tags.Untagged; cdb = (8 ∷ 0 ∷ 0 ∷ 0 ∷ 1 ∷ 0 ∷ []); payload = payloads.Nothing } ∷ [];
  aborts = [];
  resets = [];
  faults = record { at = 8000; bit = 0 } ∷ record { at = 9500; bit = 1 } ∷ [];
}

abbrev pub lost_due_rows : List Row
lost_due_rows = drive 1200 7 0x00280 ∷ drive 3600 7 0x00680 ∷ drive 4800 7 0x10781 ∷ drive 4890 7 0x10581 ∷ drive 5290 0 0x00200 ∷ drive 5380 7 0x10000 ∷ drive 5380 0 0x02a00 ∷ drive 5780 0 0x06a00 ∷ drive 5780 7 0x001c0 ∷ drive 5870 7 0x081c0 ∷ drive 5870 0 0x02a00 ∷ drive 5870 7 0x00000 ∷ drive 5870 0 0x00a00 ∷ drive 6270 0 0x04a00 ∷ drive 6270 7 0x00008 ∷ drive 6325 7 0x08008 ∷ drive 6325 0 0x00a00 ∷ drive 6325 7 0x00000 ∷ drive 6325 0 0x04a00 ∷ drive 6325 7 0x00100 ∷ drive 6380 7 0x08100 ∷ drive 6380 0 0x00a00 ∷ drive 6380 7 0x00000 ∷ drive 6380 0 0x04a00 ∷ drive 6380 7 0x00100 ∷ drive 6435 7 0x08100 ∷ drive 6435 0 0x00a00 ∷ drive 6435 7 0x00000 ∷ drive 6435 0 0x04a00 ∷ drive 6435 7 0x00100 ∷ drive 6490 7 0x08100 ∷ drive 6490 0 0x00a00 ∷ drive 6490 7 0x00000 ∷ drive 6490 0 0x04a00 ∷ drive 6490 7 0x00001 ∷ drive 6545 7 0x08001 ∷ drive 6545 0 0x00a00 ∷ drive 6545 7 0x00000 ∷ drive 6545 0 0x04a00 ∷ drive 6545 7 0x00100 ∷ drive 6600 7 0x08100 ∷ drive 6600 0 0x00a00 ∷ drive 6600 7 0x00000 ∷ drive 6600 0 0x01200 ∷ drive 7400 0 0x01300 ∷ drive 7455 0 0x05300 ∷ drive 7455 7 0x08000 ∷ drive 7455 0 0x01201 ∷ drive 7455 7 0x00000 ∷ drive 7510 0 0x05201 ∷ drive 7510 7 0x08000 ∷ drive 7510 0 0x01202 ∷ drive 7510 7 0x00000 ∷ drive 7565 0 0x05202 ∷ drive 7565 7 0x08000 ∷ drive 7565 0 0x01303 ∷ drive 7565 7 0x00000 ∷ drive 7620 0 0x05303 ∷ drive 7620 7 0x08000 ∷ drive 7620 0 0x01204 ∷ drive 7620 7 0x00000 ∷ drive 7675 0 0x05204 ∷ drive 7675 7 0x08000 ∷ drive 7675 0 0x01305 ∷ drive 7675 7 0x00000 ∷ drive 7730 0 0x05305 ∷ drive 7730 7 0x08000 ∷ drive 7730 0 0x01306 ∷ drive 7730 7 0x00000 ∷ drive 7785 0 0x05306 ∷ drive 7785 7 0x08000 ∷ drive 7785 0 0x01207 ∷ drive 7785 7 0x00000 ∷ drive 7840 0 0x05207 ∷ drive 7840 7 0x08000 ∷ drive 7840 0 0x01208 ∷ drive 7840 7 0x00000 ∷ drive 7895 0 0x05208 ∷ drive 7895 7 0x08000 ∷ drive 7895 0 0x01309 ∷ drive 7895 7 0x00000 ∷ drive 7950 0 0x05309 ∷ drive 7950 7 0x08000 ∷ drive 7950 0 0x0130a ∷ drive 7950 7 0x00000 ∷ drive 8005 0 0x0530a ∷ strike 8005 7 0 ∷ drive 8005 7 0x18000 ∷ drive 8005 0 0x0120b ∷ drive 8095 7 0x10000 ∷ drive 8095 0 0x0520b ∷ drive 8095 7 0x18000 ∷ drive 8095 0 0x0130c ∷ drive 8095 7 0x10000 ∷ drive 8150 0 0x0530c ∷ drive 8150 7 0x18000 ∷ drive 8150 0 0x0120d ∷ drive 8150 7 0x10000 ∷ drive 8205 0 0x0520d ∷ drive 8205 7 0x18000 ∷ drive 8205 0 0x0120e ∷ drive 8205 7 0x10000 ∷ drive 8260 0 0x0520e ∷ drive 8260 7 0x18000 ∷ drive 8260 0 0x0130f ∷ drive 8260 7 0x10000 ∷ drive 8315 0 0x0530f ∷ drive 8315 7 0x18000 ∷ drive 8315 0 0x01200 ∷ drive 8315 7 0x10000 ∷ drive 8315 0 0x02a00 ∷ drive 8715 0 0x06a00 ∷ drive 8715 7 0x00105 ∷ drive 8805 7 0x08105 ∷ drive 8805 0 0x02a00 ∷ drive 8805 7 0x00000 ∷ drive 8805 0 0x03a00 ∷ drive 9605 0 0x03b03 ∷ drive 9660 0 0x07b03 ∷ strike 9660 7 1 ∷ drive 9660 7 0x18000 ∷ drive 9660 0 0x03a00 ∷ drive 9750 7 0x10000 ∷ drive 9750 0 0x02a00 ∷ drive 10150 0 0x06a00 ∷ drive 10150 7 0x00109 ∷ drive 10240 7 0x08109 ∷ drive 10240 0 0x02a00 ∷ drive 10240 7 0x00000 ∷ drive 10240 0 0x00000 ∷ []

abbrev lost_due_events : List Event
lost_due_events = events.Accept (command 1) ∷ events.Lost (command 1) ∷ []

abbrev pub lost_due_shown : Shows
lost_due_shown = record { rows = reverse lost_due_rows; history = reverse lost_due_events; ended = true }

-- ---- many_pulses_due

abbrev pub many_pulses_due : ScenarioValue
many_pulses_due = record {
  version = 1;
  hosts = record { dev = 4; latency = 20; most = 1; retries = 1; period = 25; offset = 4; lag = 2000; offers = true } ∷ [];
  targets = record { dev = 7; latency = 0; retries = 0; disc = policies.Command; pick = picks.Last; seek = 0; period = 25; offset = 254; begins = false } ∷ [];
  units = record { target = 7; unit = 5; blocks = 8; size = 16; depth = 16 } ∷ [];
  fills = record { target = 7; unit = 5; lba = 4; bytes = (97 ∷ 0 ∷ 233 ∷ 29 ∷ 253 ∷ 41 ∷ 0 ∷ 104 ∷ 179 ∷ 65 ∷ 100 ∷ 28 ∷ 0 ∷ 87 ∷ 178 ∷ 234 ∷ []) } ∷ record { target = 7; unit = 5; lba = 5; bytes = (110 ∷ 58 ∷ 88 ∷ 137 ∷ 0 ∷ 148 ∷ 86 ∷ 215 ∷ 30 ∷ 0 ∷ 0 ∷ 121 ∷ 0 ∷ 174 ∷ 0 ∷ 26 ∷ []) } ∷ record { target = 7; unit = 5; lba = 6; bytes = (28 ∷ 114 ∷ 247 ∷ 42 ∷ 229 ∷ 89 ∷ 32 ∷ 173 ∷ 0 ∷ 243 ∷ 60 ∷ 82 ∷ 0 ∷ 0 ∷ 173 ∷ 0 ∷ []) } ∷ record { target = 7; unit = 5; lba = 7; bytes = (100 ∷ 6 ∷ 101 ∷ 229 ∷ 111 ∷ 124 ∷ 211 ∷ 0 ∷ 79 ∷ 0 ∷ 0 ∷ 0 ∷ 93 ∷ 0 ∷ 238 ∷ 146 ∷ []) } ∷ [];
  tapes = [];
  loads = [];
  commands = record { host = 4; target = 7; unit = 3; at = 0; tag = tags.Simple 255; cdb = (10 ∷ 0 ∷ 0 ∷ 0 ∷ 2 ∷ 0 ∷ []); payload = payloads.Nothing } ∷ record { host = 4; target = 7; unit = 0; at = 0; tag = tags.Head 255; cdb = (10 ∷ 0 ∷ 0 ∷ 0 ∷ 1 ∷ 0 ∷ []); payload = payloads.Nothing } ∷ [];
  aborts = record { host = 4; target = 7; unit = 5; at = 36905; what = (aborts.Tag 2) } ∷ record { host = 4; target = 7; unit = 5; at = 8031; what = aborts.All } ∷ record { host = 4; target = 7; unit = 5; at = 52880; what = aborts.Device } ∷ [];
  resets = [];
  faults = [];
}

abbrev pub many_pulses_due_rows : List Row
many_pulses_due_rows = drive 1220 4 0x00210 ∷ drive 3640 4 0x00610 ∷ drive 4860 4 0x10790 ∷ drive 4970 4 0x10590 ∷ drive 5370 7 0x00200 ∷ drive 5480 4 0x10000 ∷ drive 5480 7 0x02a00 ∷ drive 5880 7 0x06a00 ∷ drive 5900 4 0x101c3 ∷ drive 5975 4 0x181c3 ∷ drive 5975 7 0x02a00 ∷ drive 5995 4 0x10000 ∷ drive 5995 7 0x06a00 ∷ drive 6015 4 0x10020 ∷ drive 6090 4 0x18020 ∷ drive 6090 7 0x02a00 ∷ drive 6110 4 0x10000 ∷ drive 6110 7 0x06a00 ∷ drive 6130 4 0x101ff ∷ drive 6205 4 0x181ff ∷ drive 6205 7 0x02a00 ∷ drive 6225 4 0x10000 ∷ drive 6225 7 0x06a00 ∷ drive 6245 4 0x10001 ∷ drive 6320 4 0x18001 ∷ drive 6320 7 0x02a00 ∷ drive 6340 4 0x10000 ∷ drive 6340 7 0x06a00 ∷ drive 6360 4 0x10103 ∷ drive 6435 4 0x18103 ∷ drive 6435 7 0x02a00 ∷ drive 6455 4 0x10000 ∷ drive 6455 7 0x06a00 ∷ drive 6475 4 0x10001 ∷ drive 6550 4 0x18001 ∷ drive 6550 7 0x02a00 ∷ drive 6570 4 0x10000 ∷ drive 6570 7 0x06a00 ∷ drive 6590 4 0x10019 ∷ drive 6665 4 0x18019 ∷ drive 6665 7 0x02a00 ∷ drive 6685 4 0x10000 ∷ drive 6685 7 0x06a00 ∷ drive 6705 4 0x00004 ∷ drive 6815 4 0x08004 ∷ drive 6815 7 0x02a00 ∷ drive 6835 4 0x00000 ∷ drive 6835 7 0x03a00 ∷ drive 7635 7 0x03a01 ∷ drive 7690 7 0x07a01 ∷ drive 7710 4 0x08000 ∷ drive 7710 7 0x03b03 ∷ drive 7730 4 0x00000 ∷ drive 7765 7 0x07b03 ∷ drive 7785 4 0x08000 ∷ drive 7785 7 0x03a01 ∷ drive 7805 4 0x00000 ∷ drive 7840 7 0x07a01 ∷ drive 7860 4 0x08000 ∷ drive 7860 7 0x03a19 ∷ drive 7880 4 0x00000 ∷ drive 7915 7 0x07a19 ∷ drive 7935 4 0x08000 ∷ drive 7935 7 0x03a04 ∷ drive 7955 4 0x00000 ∷ drive 7990 7 0x07a04 ∷ drive 8010 4 0x08000 ∷ drive 8010 7 0x03a00 ∷ drive 8030 4 0x00000 ∷ drive 8030 7 0x00a00 ∷ drive 8430 7 0x04a00 ∷ drive 8450 4 0x0010a ∷ drive 8525 4 0x0810a ∷ drive 8525 7 0x00a00 ∷ drive 8545 4 0x00000 ∷ drive 8545 7 0x04a00 ∷ drive 8565 4 0x00100 ∷ drive 8640 4 0x08100 ∷ drive 8640 7 0x00a00 ∷ drive 8660 4 0x00000 ∷ drive 8660 7 0x04a00 ∷ drive 8680 4 0x00100 ∷ drive 8755 4 0x08100 ∷ drive 8755 7 0x00a00 ∷ drive 8775 4 0x00000 ∷ drive 8775 7 0x04a00 ∷ drive 8795 4 0x00100 ∷ drive 8870 4 0x08100 ∷ drive 8870 7 0x00a00 ∷ drive 8890 4 0x00000 ∷ drive 8890 7 0x04a00 ∷ drive 8910 4 0x00002 ∷ drive 8985 4 0x08002 ∷ drive 8985 7 0x00a00 ∷ drive 9005 4 0x00000 ∷ drive 9005 7 0x04a00 ∷ drive 9025 4 0x00100 ∷ drive 9100 4 0x08100 ∷ drive 9100 7 0x00a00 ∷ drive 9120 4 0x00000 ∷ drive 9120 7 0x01a00 ∷ drive 9920 7 0x01a02 ∷ drive 9975 7 0x05a02 ∷ drive 9995 4 0x08000 ∷ drive 9995 7 0x01a00 ∷ drive 10015 4 0x00000 ∷ drive 10015 7 0x03b00 ∷ drive 10415 7 0x07b00 ∷ drive 10435 4 0x08000 ∷ drive 10435 7 0x03a00 ∷ drive 10455 4 0x00000 ∷ drive 10455 7 0x00000 ∷ drive 11675 4 0x00210 ∷ drive 14095 4 0x00610 ∷ drive 15315 4 0x10790 ∷ drive 15425 4 0x10590 ∷ drive 15825 7 0x00200 ∷ drive 15935 4 0x10000 ∷ drive 15935 7 0x02a00 ∷ drive 16335 7 0x06a00 ∷ drive 16355 4 0x10085 ∷ drive 16430 4 0x18085 ∷ drive 16430 7 0x02a00 ∷ drive 16450 4 0x10000 ∷ drive 16450 7 0x06a00 ∷ drive 16470 4 0x00106 ∷ drive 16580 4 0x08106 ∷ drive 16580 7 0x02a00 ∷ drive 16600 4 0x00000 ∷ drive 16600 7 0x00000 ∷ drive 17820 4 0x00210 ∷ drive 20240 4 0x00610 ∷ drive 21460 4 0x10790 ∷ drive 21570 4 0x10590 ∷ drive 21970 7 0x00200 ∷ drive 22080 4 0x10000 ∷ drive 22080 7 0x02a00 ∷ drive 22480 7 0x06a00 ∷ drive 22500 4 0x00083 ∷ drive 22610 4 0x08083 ∷ drive 22610 7 0x02a00 ∷ drive 22630 4 0x00000 ∷ drive 22630 7 0x00a00 ∷ drive 23030 7 0x04a00 ∷ drive 23050 4 0x00103 ∷ drive 23125 4 0x08103 ∷ drive 23125 7 0x00a00 ∷ drive 23145 4 0x00000 ∷ drive 23145 7 0x04a00 ∷ drive 23165 4 0x00100 ∷ drive 23240 4 0x08100 ∷ drive 23240 7 0x00a00 ∷ drive 23260 4 0x00000 ∷ drive 23260 7 0x04a00 ∷ drive 23280 4 0x00100 ∷ drive 23355 4 0x08100 ∷ drive 23355 7 0x00a00 ∷ drive 23375 4 0x00000 ∷ drive 23375 7 0x04a00 ∷ drive 23395 4 0x00100 ∷ drive 23470 4 0x08100 ∷ drive 23470 7 0x00a00 ∷ drive 23490 4 0x00000 ∷ drive 23490 7 0x04a00 ∷ drive 23510 4 0x00112 ∷ drive 23585 4 0x08112 ∷ drive 23585 7 0x00a00 ∷ drive 23605 4 0x00000 ∷ drive 23605 7 0x04a00 ∷ drive 23625 4 0x00100 ∷ drive 23700 4 0x08100 ∷ drive 23700 7 0x00a00 ∷ drive 23720 4 0x00000 ∷ drive 23720 7 0x01200 ∷ drive 24520 7 0x01270 ∷ drive 24575 7 0x05270 ∷ drive 24605 7 0x01270 ∷ drive 24610 7 0x01300 ∷ drive 24675 7 0x05300 ∷ drive 24705 7 0x01300 ∷ drive 24710 7 0x01305 ∷ drive 24775 7 0x05305 ∷ drive 24805 7 0x01305 ∷ drive 24810 7 0x01300 ∷ drive 24875 7 0x05300 ∷ drive 24905 7 0x01300 ∷ drive 26595 4 0x08000 ∷ drive 26595 7 0x05300 ∷ drive 26625 7 0x01300 ∷ drive 26645 4 0x00000 ∷ drive 26715 4 0x08000 ∷ drive 26715 7 0x05300 ∷ drive 26745 7 0x01300 ∷ drive 26765 4 0x00000 ∷ drive 26835 4 0x08000 ∷ drive 26835 7 0x05300 ∷ drive 26865 7 0x01300 ∷ drive 26870 7 0x0130a ∷ drive 26885 4 0x00000 ∷ drive 26955 4 0x08000 ∷ drive 26955 7 0x0530a ∷ drive 26985 7 0x0130a ∷ drive 26990 7 0x01300 ∷ drive 27005 4 0x00000 ∷ drive 28615 4 0x08000 ∷ drive 28615 7 0x05300 ∷ drive 28645 7 0x01300 ∷ drive 28665 4 0x00000 ∷ drive 28735 4 0x08000 ∷ drive 28735 7 0x05300 ∷ drive 28765 7 0x01300 ∷ drive 28785 4 0x00000 ∷ drive 28855 4 0x08000 ∷ drive 28855 7 0x05300 ∷ drive 28885 7 0x01300 ∷ drive 28905 4 0x00000 ∷ drive 28975 4 0x08000 ∷ drive 28975 7 0x05300 ∷ drive 29005 7 0x01300 ∷ drive 29010 7 0x01225 ∷ drive 29025 4 0x00000 ∷ drive 30635 4 0x08000 ∷ drive 30635 7 0x05225 ∷ drive 30665 7 0x01225 ∷ drive 30670 7 0x01300 ∷ drive 30685 4 0x00000 ∷ drive 30755 4 0x08000 ∷ drive 30755 7 0x05300 ∷ drive 30785 7 0x01300 ∷ drive 30805 4 0x00000 ∷ drive 30875 4 0x08000 ∷ drive 30875 7 0x05300 ∷ drive 30905 7 0x01300 ∷ drive 30925 4 0x00000 ∷ drive 30995 4 0x08000 ∷ drive 30995 7 0x05300 ∷ drive 31025 7 0x01300 ∷ drive 31045 4 0x00000 ∷ drive 32655 4 0x08000 ∷ drive 32655 7 0x05300 ∷ drive 32685 7 0x01300 ∷ drive 32705 4 0x00000 ∷ drive 32775 4 0x08000 ∷ drive 32775 7 0x05300 ∷ drive 32805 7 0x01300 ∷ drive 32810 7 0x01200 ∷ drive 32825 4 0x00000 ∷ drive 32895 4 0x08000 ∷ drive 32945 4 0x00000 ∷ drive 33015 4 0x08000 ∷ drive 33065 4 0x00000 ∷ drive 34675 4 0x08000 ∷ drive 34725 4 0x00000 ∷ drive 34795 4 0x08000 ∷ drive 34845 4 0x00000 ∷ drive 34845 7 0x01b00 ∷ drive 35245 7 0x05b00 ∷ drive 35265 4 0x08000 ∷ drive 35265 7 0x01a00 ∷ drive 35285 4 0x00000 ∷ drive 35285 7 0x03b00 ∷ drive 35685 7 0x07b00 ∷ drive 35705 4 0x08000 ∷ drive 35705 7 0x03a00 ∷ drive 35725 4 0x00000 ∷ drive 35725 7 0x00000 ∷ drive 36945 4 0x00210 ∷ drive 39365 4 0x00610 ∷ drive 40585 4 0x10790 ∷ drive 40695 4 0x10590 ∷ drive 41095 7 0x00200 ∷ drive 41205 4 0x10000 ∷ drive 41205 7 0x02a00 ∷ drive 41605 7 0x06a00 ∷ drive 41625 4 0x10085 ∷ drive 41700 4 0x18085 ∷ drive 41700 7 0x02a00 ∷ drive 41720 4 0x10000 ∷ drive 41720 7 0x06a00 ∷ drive 41740 4 0x10020 ∷ drive 41815 4 0x18020 ∷ drive 41815 7 0x02a00 ∷ drive 41835 4 0x10000 ∷ drive 41835 7 0x06a00 ∷ drive 41855 4 0x10002 ∷ drive 41930 4 0x18002 ∷ drive 41930 7 0x02a00 ∷ drive 41950 4 0x10000 ∷ drive 41950 7 0x06a00 ∷ drive 41970 4 0x0000d ∷ drive 42080 4 0x0800d ∷ drive 42080 7 0x02a00 ∷ drive 42100 4 0x00000 ∷ drive 42100 7 0x00000 ∷ drive 43320 4 0x00210 ∷ drive 45740 4 0x00610 ∷ drive 46960 4 0x10790 ∷ drive 47070 4 0x10590 ∷ drive 47470 7 0x00200 ∷ drive 47580 4 0x10000 ∷ drive 47580 7 0x02a00 ∷ drive 47980 7 0x06a00 ∷ drive 48000 4 0x101c0 ∷ drive 48075 4 0x181c0 ∷ drive 48075 7 0x02a00 ∷ drive 48095 4 0x10000 ∷ drive 48095 7 0x06a00 ∷ drive 48115 4 0x10121 ∷ drive 48190 4 0x18121 ∷ drive 48190 7 0x02a00 ∷ drive 48210 4 0x10000 ∷ drive 48210 7 0x06a00 ∷ drive 48230 4 0x001ff ∷ drive 48340 4 0x081ff ∷ drive 48340 7 0x02a00 ∷ drive 48360 4 0x00000 ∷ drive 48360 7 0x00a00 ∷ drive 48760 7 0x04a00 ∷ drive 48780 4 0x0010a ∷ drive 48855 4 0x0810a ∷ drive 48855 7 0x00a00 ∷ drive 48875 4 0x00000 ∷ drive 48875 7 0x04a00 ∷ drive 48895 4 0x00100 ∷ drive 48970 4 0x08100 ∷ drive 48970 7 0x00a00 ∷ drive 48990 4 0x00000 ∷ drive 48990 7 0x04a00 ∷ drive 49010 4 0x00100 ∷ drive 49085 4 0x08100 ∷ drive 49085 7 0x00a00 ∷ drive 49105 4 0x00000 ∷ drive 49105 7 0x04a00 ∷ drive 49125 4 0x00100 ∷ drive 49200 4 0x08100 ∷ drive 49200 7 0x00a00 ∷ drive 49220 4 0x00000 ∷ drive 49220 7 0x04a00 ∷ drive 49240 4 0x00001 ∷ drive 49315 4 0x08001 ∷ drive 49315 7 0x00a00 ∷ drive 49335 4 0x00000 ∷ drive 49335 7 0x04a00 ∷ drive 49355 4 0x00100 ∷ drive 49430 4 0x08100 ∷ drive 49430 7 0x00a00 ∷ drive 49450 4 0x00000 ∷ drive 49450 7 0x01a00 ∷ drive 50250 7 0x01a02 ∷ drive 50305 7 0x05a02 ∷ drive 50325 4 0x08000 ∷ drive 50325 7 0x01a00 ∷ drive 50345 4 0x00000 ∷ drive 50345 7 0x03b00 ∷ drive 50745 7 0x07b00 ∷ drive 50765 4 0x08000 ∷ drive 50765 7 0x03a00 ∷ drive 50785 4 0x00000 ∷ drive 50785 7 0x00000 ∷ drive 52005 4 0x00210 ∷ drive 54425 4 0x00610 ∷ drive 55645 4 0x10790 ∷ drive 55755 4 0x10590 ∷ drive 56155 7 0x00200 ∷ drive 56265 4 0x10000 ∷ drive 56265 7 0x02a00 ∷ drive 56665 7 0x06a00 ∷ drive 56685 4 0x00080 ∷ drive 56795 4 0x08080 ∷ drive 56795 7 0x02a00 ∷ drive 56815 4 0x00000 ∷ drive 56815 7 0x00a00 ∷ drive 57215 7 0x04a00 ∷ drive 57235 4 0x00103 ∷ drive 57310 4 0x08103 ∷ drive 57310 7 0x00a00 ∷ drive 57330 4 0x00000 ∷ drive 57330 7 0x04a00 ∷ drive 57350 4 0x00100 ∷ drive 57425 4 0x08100 ∷ drive 57425 7 0x00a00 ∷ drive 57445 4 0x00000 ∷ drive 57445 7 0x04a00 ∷ drive 57465 4 0x00100 ∷ drive 57540 4 0x08100 ∷ drive 57540 7 0x00a00 ∷ drive 57560 4 0x00000 ∷ drive 57560 7 0x04a00 ∷ drive 57580 4 0x00100 ∷ drive 57655 4 0x08100 ∷ drive 57655 7 0x00a00 ∷ drive 57675 4 0x00000 ∷ drive 57675 7 0x04a00 ∷ drive 57695 4 0x00112 ∷ drive 57770 4 0x08112 ∷ drive 57770 7 0x00a00 ∷ drive 57790 4 0x00000 ∷ drive 57790 7 0x04a00 ∷ drive 57810 4 0x00100 ∷ drive 57885 4 0x08100 ∷ drive 57885 7 0x00a00 ∷ drive 57905 4 0x00000 ∷ drive 57905 7 0x01200 ∷ drive 58705 7 0x01270 ∷ drive 58760 7 0x05270 ∷ drive 58790 7 0x01270 ∷ drive 58795 7 0x01300 ∷ drive 58860 7 0x05300 ∷ drive 58890 7 0x01300 ∷ drive 58895 7 0x01305 ∷ drive 58960 7 0x05305 ∷ drive 58990 7 0x01305 ∷ drive 58995 7 0x01300 ∷ drive 59060 7 0x05300 ∷ drive 59090 7 0x01300 ∷ drive 60780 4 0x08000 ∷ drive 60780 7 0x05300 ∷ drive 60810 7 0x01300 ∷ drive 60830 4 0x00000 ∷ drive 60900 4 0x08000 ∷ drive 60900 7 0x05300 ∷ drive 60930 7 0x01300 ∷ drive 60950 4 0x00000 ∷ drive 61020 4 0x08000 ∷ drive 61020 7 0x05300 ∷ drive 61050 7 0x01300 ∷ drive 61055 7 0x0130a ∷ drive 61070 4 0x00000 ∷ drive 61140 4 0x08000 ∷ drive 61140 7 0x0530a ∷ drive 61170 7 0x0130a ∷ drive 61175 7 0x01300 ∷ drive 61190 4 0x00000 ∷ drive 62800 4 0x08000 ∷ drive 62800 7 0x05300 ∷ drive 62830 7 0x01300 ∷ drive 62850 4 0x00000 ∷ drive 62920 4 0x08000 ∷ drive 62920 7 0x05300 ∷ drive 62950 7 0x01300 ∷ drive 62970 4 0x00000 ∷ drive 63040 4 0x08000 ∷ drive 63040 7 0x05300 ∷ drive 63070 7 0x01300 ∷ drive 63090 4 0x00000 ∷ drive 63160 4 0x08000 ∷ drive 63160 7 0x05300 ∷ drive 63190 7 0x01300 ∷ drive 63195 7 0x01225 ∷ drive 63210 4 0x00000 ∷ drive 64820 4 0x08000 ∷ drive 64820 7 0x05225 ∷ drive 64850 7 0x01225 ∷ drive 64855 7 0x01300 ∷ drive 64870 4 0x00000 ∷ drive 64940 4 0x08000 ∷ drive 64940 7 0x05300 ∷ drive 64970 7 0x01300 ∷ drive 64990 4 0x00000 ∷ drive 65060 4 0x08000 ∷ drive 65060 7 0x05300 ∷ drive 65090 7 0x01300 ∷ drive 65110 4 0x00000 ∷ drive 65180 4 0x08000 ∷ drive 65180 7 0x05300 ∷ drive 65210 7 0x01300 ∷ drive 65230 4 0x00000 ∷ drive 66840 4 0x08000 ∷ drive 66840 7 0x05300 ∷ drive 66870 7 0x01300 ∷ drive 66890 4 0x00000 ∷ drive 66960 4 0x08000 ∷ drive 66960 7 0x05300 ∷ drive 66990 7 0x01300 ∷ drive 66995 7 0x01200 ∷ drive 67010 4 0x00000 ∷ drive 67080 4 0x08000 ∷ drive 67130 4 0x00000 ∷ drive 67200 4 0x08000 ∷ drive 67250 4 0x00000 ∷ drive 68860 4 0x08000 ∷ drive 68910 4 0x00000 ∷ drive 68980 4 0x08000 ∷ drive 69030 4 0x00000 ∷ drive 69030 7 0x01b00 ∷ drive 69430 7 0x05b00 ∷ drive 69450 4 0x08000 ∷ drive 69450 7 0x01a00 ∷ drive 69470 4 0x00000 ∷ drive 69470 7 0x03b00 ∷ drive 69870 7 0x07b00 ∷ drive 69890 4 0x08000 ∷ drive 69890 7 0x03a00 ∷ drive 69910 4 0x00000 ∷ drive 69910 7 0x00000 ∷ drive 71130 4 0x00210 ∷ drive 73550 4 0x00610 ∷ drive 74770 4 0x10790 ∷ drive 74880 4 0x10590 ∷ drive 75280 7 0x00200 ∷ drive 75390 4 0x10000 ∷ drive 75390 7 0x02a00 ∷ drive 75790 7 0x06a00 ∷ drive 75810 4 0x10085 ∷ drive 75885 4 0x18085 ∷ drive 75885 7 0x02a00 ∷ drive 75905 4 0x10000 ∷ drive 75905 7 0x06a00 ∷ drive 75925 4 0x0010c ∷ drive 76035 4 0x0810c ∷ drive 76035 7 0x02a00 ∷ drive 76055 4 0x00000 ∷ drive 76055 7 0x00000 ∷ []

abbrev many_pulses_due_events : List Event
many_pulses_due_events = events.Accept (command 1) ∷ events.Run (command 1) ∷ events.End (command 1) 2 ∷ events.Aborted 4 7 5 aborts.All ∷ events.Accept (sense 1) ∷ events.Run (sense 1) ∷ events.End (sense 1) 0 ∷ events.Aborted 4 7 5 (aborts.Tag 2) ∷ events.Accept (command 2) ∷ events.Run (command 2) ∷ events.End (command 2) 2 ∷ events.Accept (sense 2) ∷ events.Run (sense 2) ∷ events.End (sense 2) 0 ∷ events.Aborted 4 7 5 aborts.Device ∷ []

abbrev pub many_pulses_due_shown : Shows
many_pulses_due_shown = record { rows = reverse many_pulses_due_rows; history = reverse many_pulses_due_events; ended = true }

-- ---- offset_255_due

abbrev pub offset_255_due : ScenarioValue
offset_255_due = record {
  version = 1;
  hosts = record { dev = 7; latency = 50; most = 2; retries = 1; period = 50; offset = 255; lag = 0; offers = true } ∷ record { dev = 5; latency = 0; most = 2; retries = 1; period = 70; offset = 2; lag = 0; offers = true } ∷ [];
  targets = record { dev = 3; latency = 70; retries = 0; disc = policies.Command; pick = picks.Last; seek = 200; period = 80; offset = 16; begins = false } ∷ record { dev = 4; latency = 0; retries = 0; disc = policies.Never; pick = picks.Last; seek = 1000; period = 0; offset = 5; begins = false } ∷ [];
  units = record { target = 3; unit = 0; blocks = 1; size = 16; depth = 2 } ∷ [];
  fills = [];
  tapes = [];
  loads = [];
  commands = record { host = 7; target = 3; unit = 0; at = 0; tag = tags.Untagged; cdb = (3 ∷ 0 ∷ 0 ∷ 0 ∷ 4 ∷ 0 ∷ []); payload = payloads.Nothing } ∷ record { host = 5; target = 4; unit = 7; at = 0; tag = tags.Untagged; cdb = (18 ∷ 0 ∷ 0 ∷ 0 ∷ 5 ∷ 0 ∷ []); payload = payloads.Nothing } ∷ [];
  aborts = [];
  resets = [];
  faults = [];
}

abbrev pub offset_255_due_rows : List Row
offset_255_due_rows = drive 1200 5 0x00220 ∷ drive 1250 7 0x00280 ∷ drive 3700 7 0x00680 ∷ drive 3700 5 0x00000 ∷ drive 4950 7 0x10788 ∷ drive 5090 7 0x10588 ∷ drive 5560 3 0x00200 ∷ drive 5700 7 0x10000 ∷ drive 5770 3 0x02a00 ∷ drive 6240 3 0x06a00 ∷ drive 6290 7 0x101c0 ∷ drive 6395 7 0x181c0 ∷ drive 6465 3 0x02a00 ∷ drive 6515 7 0x10000 ∷ drive 6585 3 0x06a00 ∷ drive 6635 7 0x10001 ∷ drive 6740 7 0x18001 ∷ drive 6810 3 0x02a00 ∷ drive 6860 7 0x10000 ∷ drive 6930 3 0x06a00 ∷ drive 6980 7 0x10103 ∷ drive 7085 7 0x18103 ∷ drive 7155 3 0x02a00 ∷ drive 7205 7 0x10000 ∷ drive 7275 3 0x06a00 ∷ drive 7325 7 0x10001 ∷ drive 7430 7 0x18001 ∷ drive 7500 3 0x02a00 ∷ drive 7550 7 0x10000 ∷ drive 7620 3 0x06a00 ∷ drive 7670 7 0x10032 ∷ drive 7775 7 0x18032 ∷ drive 7845 3 0x02a00 ∷ drive 7895 7 0x10000 ∷ drive 7965 3 0x06a00 ∷ drive 8015 7 0x001ff ∷ drive 8155 7 0x081ff ∷ drive 8225 3 0x02a00 ∷ drive 8275 7 0x00000 ∷ drive 8345 3 0x03a00 ∷ drive 9215 3 0x03a07 ∷ drive 9340 3 0x07a07 ∷ drive 9390 7 0x08000 ∷ drive 9460 3 0x03a00 ∷ drive 9510 7 0x00000 ∷ drive 9580 3 0x00a00 ∷ drive 10050 3 0x04a00 ∷ drive 10100 7 0x00103 ∷ drive 10205 7 0x08103 ∷ drive 10275 3 0x00a00 ∷ drive 10325 7 0x00000 ∷ drive 10395 3 0x04a00 ∷ drive 10445 7 0x00100 ∷ drive 10550 7 0x08100 ∷ drive 10620 3 0x00a00 ∷ drive 10670 7 0x00000 ∷ drive 10740 3 0x04a00 ∷ drive 10790 7 0x00100 ∷ drive 10895 7 0x08100 ∷ drive 10965 3 0x00a00 ∷ drive 11015 7 0x00000 ∷ drive 11085 3 0x04a00 ∷ drive 11135 7 0x00100 ∷ drive 11240 7 0x08100 ∷ drive 11310 3 0x00a00 ∷ drive 11360 7 0x00000 ∷ drive 11430 3 0x04a00 ∷ drive 11480 7 0x00004 ∷ drive 11585 7 0x08004 ∷ drive 11655 3 0x00a00 ∷ drive 11705 7 0x00000 ∷ drive 11775 3 0x04a00 ∷ drive 11825 7 0x00100 ∷ drive 11930 7 0x08100 ∷ drive 12000 3 0x00a00 ∷ drive 12050 7 0x00000 ∷ drive 12120 3 0x01200 ∷ drive 12990 3 0x01270 ∷ drive 13115 3 0x05270 ∷ drive 13165 7 0x08000 ∷ drive 13235 3 0x01300 ∷ drive 13285 7 0x00000 ∷ drive 13360 3 0x05300 ∷ drive 13410 7 0x08000 ∷ drive 13480 3 0x01300 ∷ drive 13530 7 0x00000 ∷ drive 13605 3 0x05300 ∷ drive 13655 7 0x08000 ∷ drive 13725 3 0x01300 ∷ drive 13775 7 0x00000 ∷ drive 13850 3 0x05300 ∷ drive 13900 7 0x08000 ∷ drive 13970 3 0x01200 ∷ drive 14020 7 0x00000 ∷ drive 14090 3 0x01b00 ∷ drive 14560 3 0x05b00 ∷ drive 14610 7 0x08000 ∷ drive 14680 3 0x01a00 ∷ drive 14730 7 0x00000 ∷ drive 14800 3 0x03b00 ∷ drive 15270 3 0x07b00 ∷ drive 15320 7 0x08000 ∷ drive 15390 3 0x03a00 ∷ drive 15440 7 0x00000 ∷ drive 15510 3 0x00000 ∷ drive 16710 5 0x00220 ∷ drive 19110 5 0x00620 ∷ drive 20310 5 0x10730 ∷ drive 20400 5 0x10530 ∷ drive 20800 4 0x00200 ∷ drive 20890 5 0x10000 ∷ drive 20890 4 0x02a00 ∷ drive 21290 4 0x06a00 ∷ drive 21290 5 0x100c7 ∷ drive 21345 5 0x180c7 ∷ drive 21345 4 0x02a00 ∷ drive 21345 5 0x10000 ∷ drive 21345 4 0x06a00 ∷ drive 21345 5 0x10001 ∷ drive 21400 5 0x18001 ∷ drive 21400 4 0x02a00 ∷ drive 21400 5 0x10000 ∷ drive 21400 4 0x06a00 ∷ drive 21400 5 0x10103 ∷ drive 21455 5 0x18103 ∷ drive 21455 4 0x02a00 ∷ drive 21455 5 0x10000 ∷ drive 21455 4 0x06a00 ∷ drive 21455 5 0x10001 ∷ drive 21510 5 0x18001 ∷ drive 21510 4 0x02a00 ∷ drive 21510 5 0x10000 ∷ drive 21510 4 0x06a00 ∷ drive 21510 5 0x10046 ∷ drive 21565 5 0x18046 ∷ drive 21565 4 0x02a00 ∷ drive 21565 5 0x10000 ∷ drive 21565 4 0x06a00 ∷ drive 21565 5 0x00002 ∷ drive 21655 5 0x08002 ∷ drive 21655 4 0x02a00 ∷ drive 21655 5 0x00000 ∷ drive 21655 4 0x03a00 ∷ drive 22455 4 0x03a01 ∷ drive 22510 4 0x07a01 ∷ drive 22510 5 0x08000 ∷ drive 22510 4 0x03b03 ∷ drive 22510 5 0x00000 ∷ drive 22565 4 0x07b03 ∷ drive 22565 5 0x08000 ∷ drive 22565 4 0x03a01 ∷ drive 22565 5 0x00000 ∷ drive 22620 4 0x07a01 ∷ drive 22620 5 0x08000 ∷ drive 22620 4 0x03a46 ∷ drive 22620 5 0x00000 ∷ drive 22675 4 0x07a46 ∷ drive 22675 5 0x08000 ∷ drive 22675 4 0x03b00 ∷ drive 22675 5 0x00000 ∷ drive 22730 4 0x07b00 ∷ drive 22730 5 0x08000 ∷ drive 22730 4 0x03a00 ∷ drive 22730 5 0x00000 ∷ drive 22730 4 0x00a00 ∷ drive 23130 4 0x04a00 ∷ drive 23130 5 0x00112 ∷ drive 23185 5 0x08112 ∷ drive 23185 4 0x00a00 ∷ drive 23185 5 0x00000 ∷ drive 23185 4 0x04a00 ∷ drive 23185 5 0x00100 ∷ drive 23240 5 0x08100 ∷ drive 23240 4 0x00a00 ∷ drive 23240 5 0x00000 ∷ drive 23240 4 0x04a00 ∷ drive 23240 5 0x00100 ∷ drive 23295 5 0x08100 ∷ drive 23295 4 0x00a00 ∷ drive 23295 5 0x00000 ∷ drive 23295 4 0x04a00 ∷ drive 23295 5 0x00100 ∷ drive 23350 5 0x08100 ∷ drive 23350 4 0x00a00 ∷ drive 23350 5 0x00000 ∷ drive 23350 4 0x04a00 ∷ drive 23350 5 0x00105 ∷ drive 23405 5 0x08105 ∷ drive 23405 4 0x00a00 ∷ drive 23405 5 0x00000 ∷ drive 23405 4 0x04a00 ∷ drive 23405 5 0x00100 ∷ drive 23460 5 0x08100 ∷ drive 23460 4 0x00a00 ∷ drive 23460 5 0x00000 ∷ drive 23460 4 0x01200 ∷ drive 24260 4 0x0127f ∷ drive 24315 4 0x0527f ∷ drive 24315 5 0x08000 ∷ drive 24315 4 0x01300 ∷ drive 24315 5 0x00000 ∷ drive 24370 4 0x05300 ∷ drive 24370 5 0x08000 ∷ drive 24370 4 0x01202 ∷ drive 24370 5 0x00000 ∷ drive 24425 4 0x05202 ∷ drive 24425 5 0x08000 ∷ drive 24425 4 0x01202 ∷ drive 24425 5 0x00000 ∷ drive 24480 4 0x05202 ∷ drive 24480 5 0x08000 ∷ drive 24480 4 0x0121f ∷ drive 24480 5 0x00000 ∷ drive 24535 4 0x0521f ∷ drive 24535 5 0x08000 ∷ drive 24535 4 0x01200 ∷ drive 24535 5 0x00000 ∷ drive 24535 4 0x01b00 ∷ drive 24935 4 0x05b00 ∷ drive 24935 5 0x08000 ∷ drive 24935 4 0x01a00 ∷ drive 24935 5 0x00000 ∷ drive 24935 4 0x03b00 ∷ drive 25335 4 0x07b00 ∷ drive 25335 5 0x08000 ∷ drive 25335 4 0x03a00 ∷ drive 25335 5 0x00000 ∷ drive 25335 4 0x00000 ∷ []

abbrev offset_255_due_events : List Event
offset_255_due_events = events.Accept (command 1) ∷ events.Run (command 1) ∷ events.End (command 1) 0 ∷ events.Accept (command 2) ∷ events.Run (command 2) ∷ events.End (command 2) 0 ∷ []

abbrev pub offset_255_due_shown : Shows
offset_255_due_shown = record { rows = reverse offset_255_due_rows; history = reverse offset_255_due_events; ended = true }

-- ---- one_pulse_at_a_time_due

abbrev pub one_pulse_at_a_time_due : ScenarioValue
one_pulse_at_a_time_due = record {
  version = 1;
  hosts = record { dev = 6; latency = 91; most = 1; retries = 2; period = 70; offset = 1; lag = 10000; offers = true } ∷ [];
  targets = record { dev = 5; latency = 4; retries = 2; disc = policies.Never; pick = picks.First; seek = 0; period = 50; offset = 200; begins = false } ∷ [];
  units = record { target = 5; unit = 0; blocks = 1; size = 16; depth = 1 } ∷ [];
  fills = record { target = 5; unit = 0; lba = 0; bytes = (0 ∷ 0 ∷ 1 ∷ 2 ∷ 3 ∷ 4 ∷ 5 ∷ 6 ∷ 7 ∷ 8 ∷ 9 ∷ 10 ∷ 11 ∷ 12 ∷ 13 ∷ 255 ∷ []) } ∷ [];
  tapes = [];
  loads = [];
  commands = record { host = 6; target = 5; unit = 0; at = 0; tag = tags.Untagged; cdb = (40 ∷ 0 ∷ 0 ∷ 0 ∷ 0 ∷ 0 ∷ 0 ∷ 0 ∷ 1 ∷ 0 ∷ []); payload = payloads.Nothing } ∷ [];
  aborts = [];
  resets = [];
  faults = [];
}

abbrev pub one_pulse_at_a_time_due_rows : List Row
one_pulse_at_a_time_due_rows = drive 1291 6 0x00240 ∷ drive 3782 6 0x00640 ∷ drive 5073 6 0x10760 ∷ drive 5254 6 0x10560 ∷ drive 5658 5 0x00200 ∷ drive 5839 6 0x10000 ∷ drive 5843 5 0x02a00 ∷ drive 6247 5 0x06a00 ∷ drive 6338 6 0x101c0 ∷ drive 6484 6 0x181c0 ∷ drive 6488 5 0x02a00 ∷ drive 6579 6 0x10000 ∷ drive 6583 5 0x06a00 ∷ drive 6674 6 0x10001 ∷ drive 6820 6 0x18001 ∷ drive 6824 5 0x02a00 ∷ drive 6915 6 0x10000 ∷ drive 6919 5 0x06a00 ∷ drive 7010 6 0x10103 ∷ drive 7156 6 0x18103 ∷ drive 7160 5 0x02a00 ∷ drive 7251 6 0x10000 ∷ drive 7255 5 0x06a00 ∷ drive 7346 6 0x10001 ∷ drive 7492 6 0x18001 ∷ drive 7496 5 0x02a00 ∷ drive 7587 6 0x10000 ∷ drive 7591 5 0x06a00 ∷ drive 7682 6 0x10046 ∷ drive 7828 6 0x18046 ∷ drive 7832 5 0x02a00 ∷ drive 7923 6 0x10000 ∷ drive 7927 5 0x06a00 ∷ drive 8018 6 0x00001 ∷ drive 8199 6 0x08001 ∷ drive 8203 5 0x02a00 ∷ drive 8294 6 0x00000 ∷ drive 8298 5 0x03a00 ∷ drive 9102 5 0x03a01 ∷ drive 9161 5 0x07a01 ∷ drive 9252 6 0x08000 ∷ drive 9256 5 0x03b03 ∷ drive 9347 6 0x00000 ∷ drive 9351 5 0x07b03 ∷ drive 9442 6 0x08000 ∷ drive 9446 5 0x03a01 ∷ drive 9537 6 0x00000 ∷ drive 9541 5 0x07a01 ∷ drive 9632 6 0x08000 ∷ drive 9636 5 0x03a46 ∷ drive 9727 6 0x00000 ∷ drive 9731 5 0x07a46 ∷ drive 9822 6 0x08000 ∷ drive 9826 5 0x03a01 ∷ drive 9917 6 0x00000 ∷ drive 9921 5 0x07a01 ∷ drive 10012 6 0x08000 ∷ drive 10016 5 0x03a00 ∷ drive 10107 6 0x00000 ∷ drive 10111 5 0x00a00 ∷ drive 10515 5 0x04a00 ∷ drive 10606 6 0x00128 ∷ drive 10752 6 0x08128 ∷ drive 10756 5 0x00a00 ∷ drive 10847 6 0x00000 ∷ drive 10851 5 0x04a00 ∷ drive 10942 6 0x00100 ∷ drive 11088 6 0x08100 ∷ drive 11092 5 0x00a00 ∷ drive 11183 6 0x00000 ∷ drive 11187 5 0x04a00 ∷ drive 11278 6 0x00100 ∷ drive 11424 6 0x08100 ∷ drive 11428 5 0x00a00 ∷ drive 11519 6 0x00000 ∷ drive 11523 5 0x04a00 ∷ drive 11614 6 0x00100 ∷ drive 11760 6 0x08100 ∷ drive 11764 5 0x00a00 ∷ drive 11855 6 0x00000 ∷ drive 11859 5 0x04a00 ∷ drive 11950 6 0x00100 ∷ drive 12096 6 0x08100 ∷ drive 12100 5 0x00a00 ∷ drive 12191 6 0x00000 ∷ drive 12195 5 0x04a00 ∷ drive 12286 6 0x00100 ∷ drive 12432 6 0x08100 ∷ drive 12436 5 0x00a00 ∷ drive 12527 6 0x00000 ∷ drive 12531 5 0x04a00 ∷ drive 12622 6 0x00100 ∷ drive 12768 6 0x08100 ∷ drive 12772 5 0x00a00 ∷ drive 12863 6 0x00000 ∷ drive 12867 5 0x04a00 ∷ drive 12958 6 0x00100 ∷ drive 13104 6 0x08100 ∷ drive 13108 5 0x00a00 ∷ drive 13199 6 0x00000 ∷ drive 13203 5 0x04a00 ∷ drive 13294 6 0x00001 ∷ drive 13440 6 0x08001 ∷ drive 13444 5 0x00a00 ∷ drive 13535 6 0x00000 ∷ drive 13539 5 0x04a00 ∷ drive 13630 6 0x00100 ∷ drive 13776 6 0x08100 ∷ drive 13780 5 0x00a00 ∷ drive 13871 6 0x00000 ∷ drive 13875 5 0x01200 ∷ drive 14679 5 0x01300 ∷ drive 14738 5 0x05300 ∷ drive 14832 5 0x01300 ∷ drive 24829 6 0x08000 ∷ drive 24833 5 0x05300 ∷ drive 24927 5 0x01300 ∷ drive 24937 5 0x01201 ∷ drive 25010 6 0x00000 ∷ drive 34924 6 0x08000 ∷ drive 34928 5 0x05201 ∷ drive 35022 5 0x01201 ∷ drive 35032 5 0x01202 ∷ drive 35105 6 0x00000 ∷ drive 45019 6 0x08000 ∷ drive 45023 5 0x05202 ∷ drive 45117 5 0x01202 ∷ drive 45127 5 0x01303 ∷ drive 45200 6 0x00000 ∷ drive 55114 6 0x08000 ∷ drive 55118 5 0x05303 ∷ drive 55212 5 0x01303 ∷ drive 55222 5 0x01204 ∷ drive 55295 6 0x00000 ∷ drive 65209 6 0x08000 ∷ drive 65213 5 0x05204 ∷ drive 65307 5 0x01204 ∷ drive 65317 5 0x01305 ∷ drive 65390 6 0x00000 ∷ drive 75304 6 0x08000 ∷ drive 75308 5 0x05305 ∷ drive 75402 5 0x01305 ∷ drive 75412 5 0x01306 ∷ drive 75485 6 0x00000 ∷ drive 85399 6 0x08000 ∷ drive 85403 5 0x05306 ∷ drive 85497 5 0x01306 ∷ drive 85507 5 0x01207 ∷ drive 85580 6 0x00000 ∷ drive 95494 6 0x08000 ∷ drive 95498 5 0x05207 ∷ drive 95592 5 0x01207 ∷ drive 95602 5 0x01208 ∷ drive 95675 6 0x00000 ∷ drive 105589 6 0x08000 ∷ drive 105593 5 0x05208 ∷ drive 105687 5 0x01208 ∷ drive 105697 5 0x01309 ∷ drive 105770 6 0x00000 ∷ drive 115684 6 0x08000 ∷ drive 115688 5 0x05309 ∷ drive 115782 5 0x01309 ∷ drive 115792 5 0x0130a ∷ drive 115865 6 0x00000 ∷ drive 125779 6 0x08000 ∷ drive 125783 5 0x0530a ∷ drive 125877 5 0x0130a ∷ drive 125887 5 0x0120b ∷ drive 125960 6 0x00000 ∷ drive 135874 6 0x08000 ∷ drive 135878 5 0x0520b ∷ drive 135972 5 0x0120b ∷ drive 135982 5 0x0130c ∷ drive 136055 6 0x00000 ∷ drive 145969 6 0x08000 ∷ drive 145973 5 0x0530c ∷ drive 146067 5 0x0130c ∷ drive 146077 5 0x0120d ∷ drive 146150 6 0x00000 ∷ drive 156064 6 0x08000 ∷ drive 156068 5 0x0520d ∷ drive 156162 5 0x0120d ∷ drive 156172 5 0x013ff ∷ drive 156245 6 0x00000 ∷ drive 166159 6 0x08000 ∷ drive 166163 5 0x053ff ∷ drive 166257 5 0x013ff ∷ drive 166267 5 0x01200 ∷ drive 166340 6 0x00000 ∷ drive 176254 6 0x08000 ∷ drive 176435 6 0x00000 ∷ drive 176439 5 0x01b00 ∷ drive 176843 5 0x05b00 ∷ drive 176934 6 0x08000 ∷ drive 176938 5 0x01a00 ∷ drive 177029 6 0x00000 ∷ drive 177033 5 0x03b00 ∷ drive 177437 5 0x07b00 ∷ drive 177528 6 0x08000 ∷ drive 177532 5 0x03a00 ∷ drive 177623 6 0x00000 ∷ drive 177627 5 0x00000 ∷ []

abbrev one_pulse_at_a_time_due_events : List Event
one_pulse_at_a_time_due_events = events.Accept (command 1) ∷ events.Run (command 1) ∷ events.End (command 1) 0 ∷ []

abbrev pub one_pulse_at_a_time_due_shown : Shows
one_pulse_at_a_time_due_shown = record { rows = reverse one_pulse_at_a_time_due_rows; history = reverse one_pulse_at_a_time_due_events; ended = true }

-- ---- one_read_due

abbrev pub one_read_due : ScenarioValue
one_read_due = record {
  version = 1;
  hosts = record { dev = 7; latency = 0; most = 1; retries = 2; period = 0; offset = 0; lag = 0; offers = true } ∷ [];
  targets = record { dev = 0; latency = 0; retries = 2; disc = policies.Never; pick = picks.First; seek = 0; period = 0; offset = 0; begins = false } ∷ [];
  units = record { target = 0; unit = 0; blocks = 1; size = 16; depth = 1 } ∷ [];
  fills = record { target = 0; unit = 0; lba = 0; bytes = (0 ∷ 1 ∷ 2 ∷ 3 ∷ 4 ∷ 5 ∷ 6 ∷ 7 ∷ 8 ∷ 9 ∷ 10 ∷ 11 ∷ 12 ∷ 13 ∷ 14 ∷ 15 ∷ []) } ∷ [];
  tapes = [];
  loads = [];
  commands = record { host = 7; target = 0; unit = 0; at = 0; tag = tags.Untagged; cdb = (8 ∷ 0 ∷ 0 ∷ 0 ∷ 1 ∷ 0 ∷ []); payload = payloads.Nothing } ∷ [];
  aborts = [];
  resets = [];
  faults = [];
}

abbrev pub one_read_due_rows : List Row
one_read_due_rows = drive 1200 7 0x00280 ∷ drive 3600 7 0x00680 ∷ drive 4800 7 0x10781 ∷ drive 4890 7 0x10581 ∷ drive 5290 0 0x00200 ∷ drive 5380 7 0x10000 ∷ drive 5380 0 0x02a00 ∷ drive 5780 0 0x06a00 ∷ drive 5780 7 0x001c0 ∷ drive 5870 7 0x081c0 ∷ drive 5870 0 0x02a00 ∷ drive 5870 7 0x00000 ∷ drive 5870 0 0x00a00 ∷ drive 6270 0 0x04a00 ∷ drive 6270 7 0x00008 ∷ drive 6325 7 0x08008 ∷ drive 6325 0 0x00a00 ∷ drive 6325 7 0x00000 ∷ drive 6325 0 0x04a00 ∷ drive 6325 7 0x00100 ∷ drive 6380 7 0x08100 ∷ drive 6380 0 0x00a00 ∷ drive 6380 7 0x00000 ∷ drive 6380 0 0x04a00 ∷ drive 6380 7 0x00100 ∷ drive 6435 7 0x08100 ∷ drive 6435 0 0x00a00 ∷ drive 6435 7 0x00000 ∷ drive 6435 0 0x04a00 ∷ drive 6435 7 0x00100 ∷ drive 6490 7 0x08100 ∷ drive 6490 0 0x00a00 ∷ drive 6490 7 0x00000 ∷ drive 6490 0 0x04a00 ∷ drive 6490 7 0x00001 ∷ drive 6545 7 0x08001 ∷ drive 6545 0 0x00a00 ∷ drive 6545 7 0x00000 ∷ drive 6545 0 0x04a00 ∷ drive 6545 7 0x00100 ∷ drive 6600 7 0x08100 ∷ drive 6600 0 0x00a00 ∷ drive 6600 7 0x00000 ∷ drive 6600 0 0x01200 ∷ drive 7400 0 0x01300 ∷ drive 7455 0 0x05300 ∷ drive 7455 7 0x08000 ∷ drive 7455 0 0x01201 ∷ drive 7455 7 0x00000 ∷ drive 7510 0 0x05201 ∷ drive 7510 7 0x08000 ∷ drive 7510 0 0x01202 ∷ drive 7510 7 0x00000 ∷ drive 7565 0 0x05202 ∷ drive 7565 7 0x08000 ∷ drive 7565 0 0x01303 ∷ drive 7565 7 0x00000 ∷ drive 7620 0 0x05303 ∷ drive 7620 7 0x08000 ∷ drive 7620 0 0x01204 ∷ drive 7620 7 0x00000 ∷ drive 7675 0 0x05204 ∷ drive 7675 7 0x08000 ∷ drive 7675 0 0x01305 ∷ drive 7675 7 0x00000 ∷ drive 7730 0 0x05305 ∷ drive 7730 7 0x08000 ∷ drive 7730 0 0x01306 ∷ drive 7730 7 0x00000 ∷ drive 7785 0 0x05306 ∷ drive 7785 7 0x08000 ∷ drive 7785 0 0x01207 ∷ drive 7785 7 0x00000 ∷ drive 7840 0 0x05207 ∷ drive 7840 7 0x08000 ∷ drive 7840 0 0x01208 ∷ drive 7840 7 0x00000 ∷ drive 7895 0 0x05208 ∷ drive 7895 7 0x08000 ∷ drive 7895 0 0x01309 ∷ drive 7895 7 0x00000 ∷ drive 7950 0 0x05309 ∷ drive 7950 7 0x08000 ∷ drive 7950 0 0x0130a ∷ drive 7950 7 0x00000 ∷ drive 8005 0 0x0530a ∷ drive 8005 7 0x08000 ∷ drive 8005 0 0x0120b ∷ drive 8005 7 0x00000 ∷ drive 8060 0 0x0520b ∷ drive 8060 7 0x08000 ∷ drive 8060 0 0x0130c ∷ drive 8060 7 0x00000 ∷ drive 8115 0 0x0530c ∷ drive 8115 7 0x08000 ∷ drive 8115 0 0x0120d ∷ drive 8115 7 0x00000 ∷ drive 8170 0 0x0520d ∷ drive 8170 7 0x08000 ∷ drive 8170 0 0x0120e ∷ drive 8170 7 0x00000 ∷ drive 8225 0 0x0520e ∷ drive 8225 7 0x08000 ∷ drive 8225 0 0x0130f ∷ drive 8225 7 0x00000 ∷ drive 8280 0 0x0530f ∷ drive 8280 7 0x08000 ∷ drive 8280 0 0x01200 ∷ drive 8280 7 0x00000 ∷ drive 8280 0 0x01b00 ∷ drive 8680 0 0x05b00 ∷ drive 8680 7 0x08000 ∷ drive 8680 0 0x01a00 ∷ drive 8680 7 0x00000 ∷ drive 8680 0 0x03b00 ∷ drive 9080 0 0x07b00 ∷ drive 9080 7 0x08000 ∷ drive 9080 0 0x03a00 ∷ drive 9080 7 0x00000 ∷ drive 9080 0 0x00000 ∷ []

abbrev one_read_due_events : List Event
one_read_due_events = events.Accept (command 1) ∷ events.Run (command 1) ∷ events.End (command 1) 0 ∷ []

abbrev pub one_read_due_shown : Shows
one_read_due_shown = record { rows = reverse one_read_due_rows; history = reverse one_read_due_events; ended = true }

-- ---- opening_given_up_due

abbrev pub opening_given_up_due : ScenarioValue
opening_given_up_due = record {
  version = 1;
  hosts = record { dev = 6; latency = 45; most = 1; retries = 1; period = 50; offset = 8; lag = 0; offers = true } ∷ [];
  targets = record { dev = 1; latency = 5; retries = 1; disc = policies.Never; pick = picks.First; seek = 0; period = 50; offset = 8; begins = false } ∷ [];
  units = record { target = 1; unit = 0; blocks = 1; size = 16; depth = 1 } ∷ [];
  fills = [];
  tapes = [];
  loads = [];
  commands = record { host = 6; target = 1; unit = 0; at = 0; tag = tags.Untagged; cdb = (0 ∷ 0 ∷ 0 ∷ 0 ∷ 0 ∷ 0 ∷ []); payload = payloads.Nothing } ∷ [];
  aborts = [];
  resets = [];
  faults = record { at = 6565; bit = 0 } ∷ record { at = 9720; bit = 0 } ∷ record { at = 11740; bit = 0 } ∷ [];
}

abbrev pub opening_given_up_due_rows : List Row
opening_given_up_due_rows = drive 1245 6 0x00240 ∷ drive 3690 6 0x00640 ∷ drive 4935 6 0x10742 ∷ drive 5070 6 0x10542 ∷ drive 5475 1 0x00200 ∷ drive 5610 6 0x10000 ∷ drive 5615 1 0x02a00 ∷ drive 6020 1 0x06a00 ∷ drive 6065 6 0x101c0 ∷ drive 6165 6 0x181c0 ∷ drive 6170 1 0x02a00 ∷ drive 6215 6 0x10000 ∷ drive 6220 1 0x06a00 ∷ drive 6265 6 0x10001 ∷ drive 6365 6 0x18001 ∷ drive 6370 1 0x02a00 ∷ drive 6415 6 0x10000 ∷ drive 6420 1 0x06a00 ∷ drive 6465 6 0x10103 ∷ drive 6565 6 0x18103 ∷ strike 6565 1 0 ∷ drive 6570 1 0x02a00 ∷ drive 6615 6 0x10000 ∷ drive 6620 1 0x06a00 ∷ drive 6665 6 0x10001 ∷ drive 6765 6 0x18001 ∷ drive 6770 1 0x02a00 ∷ drive 6815 6 0x10000 ∷ drive 6820 1 0x06a00 ∷ drive 6865 6 0x10032 ∷ drive 6965 6 0x18032 ∷ drive 6970 1 0x02a00 ∷ drive 7015 6 0x10000 ∷ drive 7020 1 0x06a00 ∷ drive 7065 6 0x00008 ∷ drive 7200 6 0x08008 ∷ drive 7205 1 0x02a00 ∷ drive 7250 6 0x00000 ∷ drive 7255 1 0x06a00 ∷ drive 7300 6 0x101c0 ∷ drive 7435 6 0x181c0 ∷ drive 7440 1 0x02a00 ∷ drive 7485 6 0x10000 ∷ drive 7490 1 0x06a00 ∷ drive 7535 6 0x10001 ∷ drive 7635 6 0x18001 ∷ drive 7640 1 0x02a00 ∷ drive 7685 6 0x10000 ∷ drive 7690 1 0x06a00 ∷ drive 7735 6 0x10103 ∷ drive 7835 6 0x18103 ∷ drive 7840 1 0x02a00 ∷ drive 7885 6 0x10000 ∷ drive 7890 1 0x06a00 ∷ drive 7935 6 0x10001 ∷ drive 8035 6 0x18001 ∷ drive 8040 1 0x02a00 ∷ drive 8085 6 0x10000 ∷ drive 8090 1 0x06a00 ∷ drive 8135 6 0x10032 ∷ drive 8235 6 0x18032 ∷ drive 8240 1 0x02a00 ∷ drive 8285 6 0x10000 ∷ drive 8290 1 0x06a00 ∷ drive 8335 6 0x00008 ∷ drive 8470 6 0x08008 ∷ drive 8475 1 0x02a00 ∷ drive 8520 6 0x00000 ∷ drive 8525 1 0x03a00 ∷ drive 9330 1 0x03a01 ∷ drive 9390 1 0x07a01 ∷ drive 9435 6 0x08000 ∷ drive 9440 1 0x03b03 ∷ drive 9485 6 0x00000 ∷ drive 9500 1 0x07b03 ∷ drive 9545 6 0x08000 ∷ drive 9550 1 0x03a01 ∷ drive 9595 6 0x00000 ∷ drive 9610 1 0x07a01 ∷ drive 9655 6 0x08000 ∷ drive 9660 1 0x03a32 ∷ drive 9705 6 0x00000 ∷ drive 9720 1 0x07a32 ∷ strike 9720 6 0 ∷ drive 9765 6 0x18000 ∷ drive 9770 1 0x03a00 ∷ drive 9900 6 0x10000 ∷ drive 9905 1 0x02a00 ∷ drive 10310 1 0x06a00 ∷ drive 10355 6 0x00109 ∷ drive 10490 6 0x08109 ∷ drive 10495 1 0x02a00 ∷ drive 10540 6 0x00000 ∷ drive 10545 1 0x03a00 ∷ drive 11350 1 0x03a01 ∷ drive 11410 1 0x07a01 ∷ drive 11455 6 0x08000 ∷ drive 11460 1 0x03b03 ∷ drive 11505 6 0x00000 ∷ drive 11520 1 0x07b03 ∷ drive 11565 6 0x08000 ∷ drive 11570 1 0x03a01 ∷ drive 11615 6 0x00000 ∷ drive 11630 1 0x07a01 ∷ drive 11675 6 0x08000 ∷ drive 11680 1 0x03a32 ∷ drive 11725 6 0x00000 ∷ drive 11740 1 0x07a32 ∷ strike 11740 6 0 ∷ drive 11785 6 0x18000 ∷ drive 11790 1 0x03a00 ∷ drive 11920 6 0x10000 ∷ drive 11925 1 0x02a00 ∷ drive 12330 1 0x06a00 ∷ drive 12375 6 0x00109 ∷ drive 12510 6 0x08109 ∷ drive 12515 1 0x02a00 ∷ drive 12560 6 0x00000 ∷ drive 12565 1 0x00000 ∷ []

abbrev opening_given_up_due_events : List Event
opening_given_up_due_events = events.Lost (command 1) ∷ []

abbrev pub opening_given_up_due_shown : Shows
opening_given_up_due_shown = record { rows = reverse opening_given_up_due_rows; history = reverse opening_given_up_due_events; ended = true }

-- ---- ordered_process_due

abbrev pub ordered_process_due : ScenarioValue
ordered_process_due = record {
  version = 1;
  hosts = record { dev = 3; latency = 5; most = 4; retries = 2; period = 0; offset = 0; lag = 0; offers = true } ∷ [];
  targets = record { dev = 4; latency = 0; retries = 2; disc = policies.Command; pick = picks.Last; seek = 25000; period = 0; offset = 0; begins = false } ∷ [];
  units = record { target = 4; unit = 2; blocks = 1; size = 16; depth = 4 } ∷ [];
  fills = [];
  tapes = [];
  loads = [];
  commands = record { host = 3; target = 4; unit = 2; at = 0; tag = tags.Untagged; cdb = (0 ∷ 0 ∷ 0 ∷ 0 ∷ 0 ∷ 0 ∷ []); payload = payloads.Nothing } ∷ record { host = 3; target = 4; unit = 2; at = 0; tag = tags.Ordered 2; cdb = (0 ∷ 0 ∷ 0 ∷ 0 ∷ 0 ∷ 0 ∷ []); payload = payloads.Nothing } ∷ record { host = 3; target = 4; unit = 2; at = 0; tag = tags.Simple 3; cdb = (0 ∷ 0 ∷ 0 ∷ 0 ∷ 0 ∷ 0 ∷ []); payload = payloads.Nothing } ∷ [];
  aborts = [];
  resets = [];
  faults = [];
}

abbrev pub ordered_process_due_rows : List Row
ordered_process_due_rows = drive 1205 3 0x00208 ∷ drive 3610 3 0x00608 ∷ drive 4815 3 0x10718 ∷ drive 4910 3 0x10518 ∷ drive 5310 4 0x00200 ∷ drive 5405 3 0x10000 ∷ drive 5405 4 0x02a00 ∷ drive 5805 4 0x06a00 ∷ drive 5810 3 0x000c2 ∷ drive 5905 3 0x080c2 ∷ drive 5905 4 0x02a00 ∷ drive 5910 3 0x00000 ∷ drive 5910 4 0x00a00 ∷ drive 6310 4 0x04a00 ∷ drive 6315 3 0x00100 ∷ drive 6375 3 0x08100 ∷ drive 6375 4 0x00a00 ∷ drive 6380 3 0x00000 ∷ drive 6380 4 0x04a00 ∷ drive 6385 3 0x00100 ∷ drive 6445 3 0x08100 ∷ drive 6445 4 0x00a00 ∷ drive 6450 3 0x00000 ∷ drive 6450 4 0x04a00 ∷ drive 6455 3 0x00100 ∷ drive 6515 3 0x08100 ∷ drive 6515 4 0x00a00 ∷ drive 6520 3 0x00000 ∷ drive 6520 4 0x04a00 ∷ drive 6525 3 0x00100 ∷ drive 6585 3 0x08100 ∷ drive 6585 4 0x00a00 ∷ drive 6590 3 0x00000 ∷ drive 6590 4 0x04a00 ∷ drive 6595 3 0x00100 ∷ drive 6655 3 0x08100 ∷ drive 6655 4 0x00a00 ∷ drive 6660 3 0x00000 ∷ drive 6660 4 0x04a00 ∷ drive 6665 3 0x00100 ∷ drive 6725 3 0x08100 ∷ drive 6725 4 0x00a00 ∷ drive 6730 3 0x00000 ∷ drive 6730 4 0x03a00 ∷ drive 7530 4 0x03a04 ∷ drive 7585 4 0x07a04 ∷ drive 7590 3 0x08000 ∷ drive 7590 4 0x03a00 ∷ drive 7595 3 0x00000 ∷ drive 7595 4 0x00000 ∷ drive 31730 4 0x00210 ∷ drive 34130 4 0x00610 ∷ drive 35330 4 0x01718 ∷ drive 35420 4 0x01518 ∷ drive 35825 3 0x00200 ∷ drive 35825 4 0x01718 ∷ drive 35915 4 0x03b82 ∷ drive 35920 3 0x00000 ∷ drive 36315 4 0x07b82 ∷ drive 36320 3 0x08000 ∷ drive 36320 4 0x03a00 ∷ drive 36325 3 0x00000 ∷ drive 36325 4 0x01b00 ∷ drive 36725 4 0x05b00 ∷ drive 36730 3 0x08000 ∷ drive 36730 4 0x01a00 ∷ drive 36735 3 0x00000 ∷ drive 36735 4 0x03b00 ∷ drive 37135 4 0x07b00 ∷ drive 37140 3 0x08000 ∷ drive 37140 4 0x03a00 ∷ drive 37145 3 0x00000 ∷ drive 37145 4 0x00000 ∷ drive 38350 3 0x00208 ∷ drive 40755 3 0x00608 ∷ drive 41960 3 0x10718 ∷ drive 42055 3 0x10518 ∷ drive 42455 4 0x00200 ∷ drive 42550 3 0x10000 ∷ drive 42550 4 0x02a00 ∷ drive 42950 4 0x06a00 ∷ drive 42955 3 0x100c2 ∷ drive 43015 3 0x180c2 ∷ drive 43015 4 0x02a00 ∷ drive 43020 3 0x10000 ∷ drive 43020 4 0x06a00 ∷ drive 43025 3 0x10122 ∷ drive 43085 3 0x18122 ∷ drive 43085 4 0x02a00 ∷ drive 43090 3 0x10000 ∷ drive 43090 4 0x06a00 ∷ drive 43095 3 0x00002 ∷ drive 43190 3 0x08002 ∷ drive 43190 4 0x02a00 ∷ drive 43195 3 0x00000 ∷ drive 43195 4 0x00a00 ∷ drive 43595 4 0x04a00 ∷ drive 43600 3 0x00100 ∷ drive 43660 3 0x08100 ∷ drive 43660 4 0x00a00 ∷ drive 43665 3 0x00000 ∷ drive 43665 4 0x04a00 ∷ drive 43670 3 0x00100 ∷ drive 43730 3 0x08100 ∷ drive 43730 4 0x00a00 ∷ drive 43735 3 0x00000 ∷ drive 43735 4 0x04a00 ∷ drive 43740 3 0x00100 ∷ drive 43800 3 0x08100 ∷ drive 43800 4 0x00a00 ∷ drive 43805 3 0x00000 ∷ drive 43805 4 0x04a00 ∷ drive 43810 3 0x00100 ∷ drive 43870 3 0x08100 ∷ drive 43870 4 0x00a00 ∷ drive 43875 3 0x00000 ∷ drive 43875 4 0x04a00 ∷ drive 43880 3 0x00100 ∷ drive 43940 3 0x08100 ∷ drive 43940 4 0x00a00 ∷ drive 43945 3 0x00000 ∷ drive 43945 4 0x04a00 ∷ drive 43950 3 0x00100 ∷ drive 44010 3 0x08100 ∷ drive 44010 4 0x00a00 ∷ drive 44015 3 0x00000 ∷ drive 44015 4 0x03a00 ∷ drive 44815 4 0x03a04 ∷ drive 44870 4 0x07a04 ∷ drive 44875 3 0x08000 ∷ drive 44875 4 0x03a00 ∷ drive 44880 3 0x00000 ∷ drive 44880 4 0x00000 ∷ drive 46085 3 0x00208 ∷ drive 48490 3 0x00608 ∷ drive 49695 3 0x10718 ∷ drive 49790 3 0x10518 ∷ drive 50190 4 0x00200 ∷ drive 50285 3 0x10000 ∷ drive 50285 4 0x02a00 ∷ drive 50685 4 0x06a00 ∷ drive 50690 3 0x100c2 ∷ drive 50750 3 0x180c2 ∷ drive 50750 4 0x02a00 ∷ drive 50755 3 0x10000 ∷ drive 50755 4 0x06a00 ∷ drive 50760 3 0x10020 ∷ drive 50820 3 0x18020 ∷ drive 50820 4 0x02a00 ∷ drive 50825 3 0x10000 ∷ drive 50825 4 0x06a00 ∷ drive 50830 3 0x00103 ∷ drive 50925 3 0x08103 ∷ drive 50925 4 0x02a00 ∷ drive 50930 3 0x00000 ∷ drive 50930 4 0x00a00 ∷ drive 51330 4 0x04a00 ∷ drive 51335 3 0x00100 ∷ drive 51395 3 0x08100 ∷ drive 51395 4 0x00a00 ∷ drive 51400 3 0x00000 ∷ drive 51400 4 0x04a00 ∷ drive 51405 3 0x00100 ∷ drive 51465 3 0x08100 ∷ drive 51465 4 0x00a00 ∷ drive 51470 3 0x00000 ∷ drive 51470 4 0x04a00 ∷ drive 51475 3 0x00100 ∷ drive 51535 3 0x08100 ∷ drive 51535 4 0x00a00 ∷ drive 51540 3 0x00000 ∷ drive 51540 4 0x04a00 ∷ drive 51545 3 0x00100 ∷ drive 51605 3 0x08100 ∷ drive 51605 4 0x00a00 ∷ drive 51610 3 0x00000 ∷ drive 51610 4 0x04a00 ∷ drive 51615 3 0x00100 ∷ drive 51675 3 0x08100 ∷ drive 51675 4 0x00a00 ∷ drive 51680 3 0x00000 ∷ drive 51680 4 0x04a00 ∷ drive 51685 3 0x00100 ∷ drive 51745 3 0x08100 ∷ drive 51745 4 0x00a00 ∷ drive 51750 3 0x00000 ∷ drive 51750 4 0x03a00 ∷ drive 52550 4 0x03a04 ∷ drive 52605 4 0x07a04 ∷ drive 52610 3 0x08000 ∷ drive 52610 4 0x03a00 ∷ drive 52615 3 0x00000 ∷ drive 52615 4 0x00000 ∷ drive 69015 4 0x00210 ∷ drive 71415 4 0x00610 ∷ drive 72615 4 0x01718 ∷ drive 72705 4 0x01518 ∷ drive 73110 3 0x00200 ∷ drive 73110 4 0x01718 ∷ drive 73200 4 0x03b82 ∷ drive 73205 3 0x00000 ∷ drive 73600 4 0x07b82 ∷ drive 73605 3 0x08000 ∷ drive 73605 4 0x03a20 ∷ drive 73610 3 0x00000 ∷ drive 73660 4 0x07a20 ∷ drive 73665 3 0x08000 ∷ drive 73665 4 0x03a02 ∷ drive 73670 3 0x00000 ∷ drive 73720 4 0x07a02 ∷ drive 73725 3 0x08000 ∷ drive 73725 4 0x03a00 ∷ drive 73730 3 0x00000 ∷ drive 73730 4 0x01b00 ∷ drive 74130 4 0x05b00 ∷ drive 74135 3 0x08000 ∷ drive 74135 4 0x01a00 ∷ drive 74140 3 0x00000 ∷ drive 74140 4 0x03b00 ∷ drive 74540 4 0x07b00 ∷ drive 74545 3 0x08000 ∷ drive 74545 4 0x03a00 ∷ drive 74550 3 0x00000 ∷ drive 74550 4 0x00000 ∷ drive 99545 4 0x00210 ∷ drive 101945 4 0x00610 ∷ drive 103145 4 0x01718 ∷ drive 103235 4 0x01518 ∷ drive 103640 3 0x00200 ∷ drive 103640 4 0x01718 ∷ drive 103730 4 0x03b82 ∷ drive 103735 3 0x00000 ∷ drive 104130 4 0x07b82 ∷ drive 104135 3 0x08000 ∷ drive 104135 4 0x03a20 ∷ drive 104140 3 0x00000 ∷ drive 104190 4 0x07a20 ∷ drive 104195 3 0x08000 ∷ drive 104195 4 0x03b03 ∷ drive 104200 3 0x00000 ∷ drive 104250 4 0x07b03 ∷ drive 104255 3 0x08000 ∷ drive 104255 4 0x03a00 ∷ drive 104260 3 0x00000 ∷ drive 104260 4 0x01b00 ∷ drive 104660 4 0x05b00 ∷ drive 104665 3 0x08000 ∷ drive 104665 4 0x01a00 ∷ drive 104670 3 0x00000 ∷ drive 104670 4 0x03b00 ∷ drive 105070 4 0x07b00 ∷ drive 105075 3 0x08000 ∷ drive 105075 4 0x03a00 ∷ drive 105080 3 0x00000 ∷ drive 105080 4 0x00000 ∷ []

abbrev ordered_process_due_events : List Event
ordered_process_due_events = events.Accept (command 1) ∷ events.Run (command 1) ∷ events.End (command 1) 0 ∷ events.Accept (command 2) ∷ events.Accept (command 3) ∷ events.Run (command 2) ∷ events.End (command 2) 0 ∷ events.Run (command 3) ∷ events.End (command 3) 0 ∷ []

abbrev pub ordered_process_due_shown : Shows
ordered_process_due_shown = record { rows = reverse ordered_process_due_rows; history = reverse ordered_process_due_events; ended = true }

-- ---- overlapping_resets_due

abbrev pub overlapping_resets_due : ScenarioValue
overlapping_resets_due = record {
  version = 1;
  hosts = record { dev = 7; latency = 22; most = 1; retries = 2; period = 50; offset = 8; lag = 0; offers = true } ∷ record { dev = 3; latency = 0; most = 1; retries = 2; period = 50; offset = 8; lag = 0; offers = true } ∷ [];
  targets = record { dev = 1; latency = 100; retries = 2; disc = policies.Never; pick = picks.First; seek = 0; period = 50; offset = 8; begins = false } ∷ [];
  units = record { target = 1; unit = 0; blocks = 1; size = 16; depth = 1 } ∷ [];
  fills = [];
  tapes = [];
  loads = [];
  commands = record { host = 7; target = 1; unit = 0; at = 0; tag = tags.Untagged; cdb = (0 ∷ 0 ∷ 0 ∷ 0 ∷ 0 ∷ 0 ∷ []); payload = payloads.Nothing } ∷ record { host = 3; target = 1; unit = 0; at = 40000; tag = tags.Untagged; cdb = (18 ∷ 0 ∷ 0 ∷ 0 ∷ 3 ∷ 0 ∷ []); payload = payloads.Nothing } ∷ [];
  aborts = [];
  resets = record { dev = 7; at = 6100 } ∷ record { dev = 3; at = 20000 } ∷ record { dev = 1; at = 45000 } ∷ [];
  faults = [];
}

abbrev pub overlapping_resets_due_rows : List Row
overlapping_resets_due_rows = drive 1222 7 0x00280 ∷ drive 3644 7 0x00680 ∷ drive 4866 7 0x10782 ∷ drive 4978 7 0x10582 ∷ drive 5478 1 0x00200 ∷ drive 5590 7 0x10000 ∷ drive 5690 1 0x02a00 ∷ drive 6100 7 0x20000 ∷ drive 6200 1 0x00000 ∷ drive 20000 3 0x20000 ∷ drive 31122 7 0x00000 ∷ drive 45000 3 0x00000 ∷ drive 45000 1 0x20000 ∷ drive 70100 1 0x00000 ∷ drive 71300 3 0x00208 ∷ drive 73700 3 0x00608 ∷ drive 74900 3 0x1070a ∷ drive 74990 3 0x1050a ∷ drive 75490 1 0x00200 ∷ drive 75580 3 0x10000 ∷ drive 75680 1 0x02a00 ∷ drive 76180 1 0x06a00 ∷ drive 76180 3 0x001c0 ∷ drive 76270 3 0x081c0 ∷ drive 76370 1 0x02a00 ∷ drive 76370 3 0x00000 ∷ drive 76470 1 0x00a00 ∷ drive 76970 1 0x04a00 ∷ drive 76970 3 0x00112 ∷ drive 77025 3 0x08112 ∷ drive 77125 1 0x00a00 ∷ drive 77125 3 0x00000 ∷ drive 77225 1 0x04a00 ∷ drive 77225 3 0x00100 ∷ drive 77280 3 0x08100 ∷ drive 77380 1 0x00a00 ∷ drive 77380 3 0x00000 ∷ drive 77480 1 0x04a00 ∷ drive 77480 3 0x00100 ∷ drive 77535 3 0x08100 ∷ drive 77635 1 0x00a00 ∷ drive 77635 3 0x00000 ∷ drive 77735 1 0x04a00 ∷ drive 77735 3 0x00100 ∷ drive 77790 3 0x08100 ∷ drive 77890 1 0x00a00 ∷ drive 77890 3 0x00000 ∷ drive 77990 1 0x04a00 ∷ drive 77990 3 0x00103 ∷ drive 78045 3 0x08103 ∷ drive 78145 1 0x00a00 ∷ drive 78145 3 0x00000 ∷ drive 78245 1 0x04a00 ∷ drive 78245 3 0x00100 ∷ drive 78300 3 0x08100 ∷ drive 78400 1 0x00a00 ∷ drive 78400 3 0x00000 ∷ drive 78500 1 0x01200 ∷ drive 79400 1 0x01300 ∷ drive 79555 1 0x05300 ∷ drive 79555 3 0x08000 ∷ drive 79655 1 0x01300 ∷ drive 79655 3 0x00000 ∷ drive 79810 1 0x05300 ∷ drive 79810 3 0x08000 ∷ drive 79910 1 0x01202 ∷ drive 79910 3 0x00000 ∷ drive 80065 1 0x05202 ∷ drive 80065 3 0x08000 ∷ drive 80165 1 0x01200 ∷ drive 80165 3 0x00000 ∷ drive 80265 1 0x01b00 ∷ drive 80765 1 0x05b00 ∷ drive 80765 3 0x08000 ∷ drive 80865 1 0x01a00 ∷ drive 80865 3 0x00000 ∷ drive 80965 1 0x03b00 ∷ drive 81465 1 0x07b00 ∷ drive 81465 3 0x08000 ∷ drive 81565 1 0x03a00 ∷ drive 81565 3 0x00000 ∷ drive 81665 1 0x00000 ∷ []

abbrev overlapping_resets_due_events : List Event
overlapping_resets_due_events = events.Reset 7 ∷ events.Reset 3 ∷ events.Reset 1 ∷ events.Accept (command 2) ∷ events.Run (command 2) ∷ events.End (command 2) 0 ∷ []

abbrev pub overlapping_resets_due_shown : Shows
overlapping_resets_due_shown = record { rows = reverse overlapping_resets_due_rows; history = reverse overlapping_resets_due_events; ended = true }

-- ---- own_processes_aborted_due

abbrev pub own_processes_aborted_due : ScenarioValue
own_processes_aborted_due = record {
  version = 1;
  hosts = record { dev = 7; latency = 0; most = 1; retries = 2; period = 0; offset = 0; lag = 0; offers = true } ∷ record { dev = 5; latency = 20; most = 1; retries = 2; period = 0; offset = 0; lag = 0; offers = true } ∷ [];
  targets = record { dev = 2; latency = 6; retries = 2; disc = policies.Command; pick = picks.First; seek = 50000; period = 0; offset = 0; begins = false } ∷ [];
  units = record { target = 2; unit = 6; blocks = 1; size = 16; depth = 2 } ∷ [];
  fills = [];
  tapes = [];
  loads = [];
  commands = record { host = 7; target = 2; unit = 6; at = 0; tag = tags.Untagged; cdb = (0 ∷ 0 ∷ 0 ∷ 0 ∷ 0 ∷ 0 ∷ []); payload = payloads.Nothing } ∷ record { host = 5; target = 2; unit = 6; at = 0; tag = tags.Untagged; cdb = (0 ∷ 0 ∷ 0 ∷ 0 ∷ 0 ∷ 0 ∷ []); payload = payloads.Nothing } ∷ [];
  aborts = record { host = 7; target = 2; unit = 6; at = 18000; what = aborts.All } ∷ [];
  resets = [];
  faults = [];
}

abbrev pub own_processes_aborted_due_rows : List Row
own_processes_aborted_due_rows = drive 1200 7 0x00280 ∷ drive 1220 5 0x00220 ∷ drive 3600 7 0x00680 ∷ drive 3620 5 0x00000 ∷ drive 4800 7 0x10784 ∷ drive 4890 7 0x10584 ∷ drive 5296 2 0x00200 ∷ drive 5386 7 0x10000 ∷ drive 5392 2 0x02a00 ∷ drive 5798 2 0x06a00 ∷ drive 5798 7 0x001c6 ∷ drive 5888 7 0x081c6 ∷ drive 5894 2 0x02a00 ∷ drive 5894 7 0x00000 ∷ drive 5900 2 0x00a00 ∷ drive 6306 2 0x04a00 ∷ drive 6306 7 0x00100 ∷ drive 6361 7 0x08100 ∷ drive 6367 2 0x00a00 ∷ drive 6367 7 0x00000 ∷ drive 6373 2 0x04a00 ∷ drive 6373 7 0x00100 ∷ drive 6428 7 0x08100 ∷ drive 6434 2 0x00a00 ∷ drive 6434 7 0x00000 ∷ drive 6440 2 0x04a00 ∷ drive 6440 7 0x00100 ∷ drive 6495 7 0x08100 ∷ drive 6501 2 0x00a00 ∷ drive 6501 7 0x00000 ∷ drive 6507 2 0x04a00 ∷ drive 6507 7 0x00100 ∷ drive 6562 7 0x08100 ∷ drive 6568 2 0x00a00 ∷ drive 6568 7 0x00000 ∷ drive 6574 2 0x04a00 ∷ drive 6574 7 0x00100 ∷ drive 6629 7 0x08100 ∷ drive 6635 2 0x00a00 ∷ drive 6635 7 0x00000 ∷ drive 6641 2 0x04a00 ∷ drive 6641 7 0x00100 ∷ drive 6696 7 0x08100 ∷ drive 6702 2 0x00a00 ∷ drive 6702 7 0x00000 ∷ drive 6708 2 0x03a00 ∷ drive 7514 2 0x03a04 ∷ drive 7575 2 0x07a04 ∷ drive 7575 7 0x08000 ∷ drive 7581 2 0x03a00 ∷ drive 7581 7 0x00000 ∷ drive 7587 2 0x00000 ∷ drive 8807 5 0x00220 ∷ drive 11227 5 0x00620 ∷ drive 12447 5 0x10724 ∷ drive 12557 5 0x10524 ∷ drive 12963 2 0x00200 ∷ drive 13073 5 0x10000 ∷ drive 13079 2 0x02a00 ∷ drive 13485 2 0x06a00 ∷ drive 13505 5 0x001c6 ∷ drive 13615 5 0x081c6 ∷ drive 13621 2 0x02a00 ∷ drive 13641 5 0x00000 ∷ drive 13647 2 0x00a00 ∷ drive 14053 2 0x04a00 ∷ drive 14073 5 0x00100 ∷ drive 14148 5 0x08100 ∷ drive 14154 2 0x00a00 ∷ drive 14174 5 0x00000 ∷ drive 14180 2 0x04a00 ∷ drive 14200 5 0x00100 ∷ drive 14275 5 0x08100 ∷ drive 14281 2 0x00a00 ∷ drive 14301 5 0x00000 ∷ drive 14307 2 0x04a00 ∷ drive 14327 5 0x00100 ∷ drive 14402 5 0x08100 ∷ drive 14408 2 0x00a00 ∷ drive 14428 5 0x00000 ∷ drive 14434 2 0x04a00 ∷ drive 14454 5 0x00100 ∷ drive 14529 5 0x08100 ∷ drive 14535 2 0x00a00 ∷ drive 14555 5 0x00000 ∷ drive 14561 2 0x04a00 ∷ drive 14581 5 0x00100 ∷ drive 14656 5 0x08100 ∷ drive 14662 2 0x00a00 ∷ drive 14682 5 0x00000 ∷ drive 14688 2 0x04a00 ∷ drive 14708 5 0x00100 ∷ drive 14783 5 0x08100 ∷ drive 14789 2 0x00a00 ∷ drive 14809 5 0x00000 ∷ drive 14815 2 0x03a00 ∷ drive 15621 2 0x03a04 ∷ drive 15682 2 0x07a04 ∷ drive 15702 5 0x08000 ∷ drive 15708 2 0x03a00 ∷ drive 15728 5 0x00000 ∷ drive 15734 2 0x00000 ∷ drive 18000 7 0x00280 ∷ drive 20400 7 0x00680 ∷ drive 21600 7 0x10784 ∷ drive 21690 7 0x10584 ∷ drive 22096 2 0x00200 ∷ drive 22186 7 0x10000 ∷ drive 22192 2 0x02a00 ∷ drive 22598 2 0x06a00 ∷ drive 22598 7 0x10086 ∷ drive 22653 7 0x18086 ∷ drive 22659 2 0x02a00 ∷ drive 22659 7 0x10000 ∷ drive 22665 2 0x06a00 ∷ drive 22665 7 0x00106 ∷ drive 22755 7 0x08106 ∷ drive 22761 2 0x02a00 ∷ drive 22761 7 0x00000 ∷ drive 22767 2 0x00000 ∷ drive 72773 2 0x00204 ∷ drive 75179 2 0x00604 ∷ drive 76385 2 0x01724 ∷ drive 76481 2 0x01524 ∷ drive 76901 5 0x00200 ∷ drive 76907 2 0x01724 ∷ drive 77003 2 0x03a86 ∷ drive 77023 5 0x00000 ∷ drive 77409 2 0x07a86 ∷ drive 77429 5 0x08000 ∷ drive 77435 2 0x03a00 ∷ drive 77455 5 0x00000 ∷ drive 77461 2 0x01b00 ∷ drive 77867 2 0x05b00 ∷ drive 77887 5 0x08000 ∷ drive 77893 2 0x01a00 ∷ drive 77913 5 0x00000 ∷ drive 77919 2 0x03b00 ∷ drive 78325 2 0x07b00 ∷ drive 78345 5 0x08000 ∷ drive 78351 2 0x03a00 ∷ drive 78371 5 0x00000 ∷ drive 78377 2 0x00000 ∷ []

abbrev own_processes_aborted_due_events : List Event
own_processes_aborted_due_events = events.Accept (command 1) ∷ events.Accept (command 2) ∷ events.Aborted 7 2 6 aborts.All ∷ events.Run (command 2) ∷ events.End (command 2) 0 ∷ []

abbrev pub own_processes_aborted_due_shown : Shows
own_processes_aborted_due_shown = record { rows = reverse own_processes_aborted_due_rows; history = reverse own_processes_aborted_due_events; ended = true }

-- ---- pulsed_read_struck_due

abbrev pub pulsed_read_struck_due : ScenarioValue
pulsed_read_struck_due = record {
  version = 1;
  hosts = record { dev = 7; latency = 12; most = 1; retries = 2; period = 50; offset = 3; lag = 40; offers = true } ∷ [];
  targets = record { dev = 1; latency = 9; retries = 1; disc = policies.Never; pick = picks.First; seek = 0; period = 60; offset = 4; begins = false } ∷ [];
  units = record { target = 1; unit = 0; blocks = 2; size = 16; depth = 1 } ∷ [];
  fills = record { target = 1; unit = 0; lba = 1; bytes = (0 ∷ 255 ∷ 0 ∷ 255 ∷ 85 ∷ 85 ∷ 170 ∷ 170 ∷ 0 ∷ 0 ∷ 0 ∷ 0 ∷ 1 ∷ 2 ∷ 3 ∷ 4 ∷ []) } ∷ [];
  tapes = [];
  loads = [];
  commands = record { host = 7; target = 1; unit = 0; at = 0; tag = tags.Untagged; cdb = (8 ∷ 0 ∷ 0 ∷ 1 ∷ 1 ∷ 0 ∷ []); payload = payloads.Nothing } ∷ [];
  aborts = [];
  resets = [];
  faults = record { at = 10992; bit = 8 } ∷ [];
}

abbrev pub pulsed_read_struck_due_rows : List Row
pulsed_read_struck_due_rows = drive 1212 7 0x00280 ∷ drive 3624 7 0x00680 ∷ drive 4836 7 0x10782 ∷ drive 4938 7 0x10582 ∷ drive 5347 1 0x00200 ∷ drive 5449 7 0x10000 ∷ drive 5458 1 0x02a00 ∷ drive 5867 1 0x06a00 ∷ drive 5879 7 0x101c0 ∷ drive 5946 7 0x181c0 ∷ drive 5955 1 0x02a00 ∷ drive 5967 7 0x10000 ∷ drive 5976 1 0x06a00 ∷ drive 5988 7 0x10001 ∷ drive 6055 7 0x18001 ∷ drive 6064 1 0x02a00 ∷ drive 6076 7 0x10000 ∷ drive 6085 1 0x06a00 ∷ drive 6097 7 0x10103 ∷ drive 6164 7 0x18103 ∷ drive 6173 1 0x02a00 ∷ drive 6185 7 0x10000 ∷ drive 6194 1 0x06a00 ∷ drive 6206 7 0x10001 ∷ drive 6273 7 0x18001 ∷ drive 6282 1 0x02a00 ∷ drive 6294 7 0x10000 ∷ drive 6303 1 0x06a00 ∷ drive 6315 7 0x10032 ∷ drive 6382 7 0x18032 ∷ drive 6391 1 0x02a00 ∷ drive 6403 7 0x10000 ∷ drive 6412 1 0x06a00 ∷ drive 6424 7 0x00103 ∷ drive 6526 7 0x08103 ∷ drive 6535 1 0x02a00 ∷ drive 6547 7 0x00000 ∷ drive 6556 1 0x03a00 ∷ drive 7365 1 0x03a01 ∷ drive 7429 1 0x07a01 ∷ drive 7441 7 0x08000 ∷ drive 7450 1 0x03b03 ∷ drive 7462 7 0x00000 ∷ drive 7514 1 0x07b03 ∷ drive 7526 7 0x08000 ∷ drive 7535 1 0x03a01 ∷ drive 7547 7 0x00000 ∷ drive 7599 1 0x07a01 ∷ drive 7611 7 0x08000 ∷ drive 7620 1 0x03b3c ∷ drive 7632 7 0x00000 ∷ drive 7684 1 0x07b3c ∷ drive 7696 7 0x08000 ∷ drive 7705 1 0x03b03 ∷ drive 7717 7 0x00000 ∷ drive 7769 1 0x07b03 ∷ drive 7781 7 0x08000 ∷ drive 7790 1 0x03a00 ∷ drive 7802 7 0x00000 ∷ drive 7811 1 0x00a00 ∷ drive 8220 1 0x04a00 ∷ drive 8232 7 0x00008 ∷ drive 8299 7 0x08008 ∷ drive 8308 1 0x00a00 ∷ drive 8320 7 0x00000 ∷ drive 8329 1 0x04a00 ∷ drive 8341 7 0x00100 ∷ drive 8408 7 0x08100 ∷ drive 8417 1 0x00a00 ∷ drive 8429 7 0x00000 ∷ drive 8438 1 0x04a00 ∷ drive 8450 7 0x00100 ∷ drive 8517 7 0x08100 ∷ drive 8526 1 0x00a00 ∷ drive 8538 7 0x00000 ∷ drive 8547 1 0x04a00 ∷ drive 8559 7 0x00001 ∷ drive 8626 7 0x08001 ∷ drive 8635 1 0x00a00 ∷ drive 8647 7 0x00000 ∷ drive 8656 1 0x04a00 ∷ drive 8668 7 0x00001 ∷ drive 8735 7 0x08001 ∷ drive 8744 1 0x00a00 ∷ drive 8756 7 0x00000 ∷ drive 8765 1 0x04a00 ∷ drive 8777 7 0x00100 ∷ drive 8844 7 0x08100 ∷ drive 8853 1 0x00a00 ∷ drive 8865 7 0x00000 ∷ drive 8874 1 0x01200 ∷ drive 9683 1 0x01300 ∷ drive 9747 1 0x05300 ∷ drive 9799 7 0x08000 ∷ drive 9846 1 0x01300 ∷ drive 9856 1 0x013ff ∷ drive 9901 7 0x00000 ∷ drive 9996 1 0x053ff ∷ drive 10051 7 0x08000 ∷ drive 10095 1 0x013ff ∷ drive 10105 1 0x01300 ∷ drive 10153 7 0x00000 ∷ drive 10245 1 0x05300 ∷ drive 10303 7 0x08000 ∷ drive 10344 1 0x01300 ∷ drive 10354 1 0x013ff ∷ drive 10405 7 0x00000 ∷ drive 10494 1 0x053ff ∷ drive 10555 7 0x08000 ∷ drive 10593 1 0x013ff ∷ drive 10603 1 0x01355 ∷ drive 10657 7 0x00000 ∷ drive 10743 1 0x05355 ∷ drive 10807 7 0x08000 ∷ drive 10842 1 0x01355 ∷ drive 10909 7 0x00000 ∷ drive 10992 1 0x05355 ∷ strike 10992 7 8 ∷ drive 11059 7 0x18000 ∷ drive 11091 1 0x01355 ∷ drive 11101 1 0x013aa ∷ drive 11161 7 0x10000 ∷ drive 11241 1 0x053aa ∷ drive 11311 7 0x18000 ∷ drive 11340 1 0x013aa ∷ drive 11413 7 0x10000 ∷ drive 11490 1 0x053aa ∷ drive 11563 7 0x18000 ∷ drive 11589 1 0x013aa ∷ drive 11599 1 0x01300 ∷ drive 11665 7 0x10000 ∷ drive 11739 1 0x05300 ∷ drive 11815 7 0x18000 ∷ drive 11838 1 0x01300 ∷ drive 11917 7 0x10000 ∷ drive 11988 1 0x05300 ∷ drive 12067 7 0x18000 ∷ drive 12087 1 0x01300 ∷ drive 12169 7 0x10000 ∷ drive 12237 1 0x05300 ∷ drive 12319 7 0x18000 ∷ drive 12336 1 0x01300 ∷ drive 12421 7 0x10000 ∷ drive 12486 1 0x05300 ∷ drive 12571 7 0x18000 ∷ drive 12585 1 0x01300 ∷ drive 12595 1 0x01201 ∷ drive 12673 7 0x10000 ∷ drive 12735 1 0x05201 ∷ drive 12823 7 0x18000 ∷ drive 12834 1 0x01201 ∷ drive 12844 1 0x01202 ∷ drive 12925 7 0x10000 ∷ drive 12984 1 0x05202 ∷ drive 13075 7 0x18000 ∷ drive 13083 1 0x01202 ∷ drive 13093 1 0x01303 ∷ drive 13177 7 0x10000 ∷ drive 13233 1 0x05303 ∷ drive 13327 7 0x18000 ∷ drive 13332 1 0x01303 ∷ drive 13342 1 0x01204 ∷ drive 13429 7 0x10000 ∷ drive 13482 1 0x05204 ∷ drive 13579 7 0x18000 ∷ drive 13581 1 0x01204 ∷ drive 13591 1 0x01200 ∷ drive 13681 7 0x10000 ∷ drive 13690 1 0x02a00 ∷ drive 14099 1 0x06a00 ∷ drive 14111 7 0x00105 ∷ drive 14213 7 0x08105 ∷ drive 14222 1 0x02a00 ∷ drive 14234 7 0x00000 ∷ drive 14243 1 0x03a00 ∷ drive 15052 1 0x03b03 ∷ drive 15116 1 0x07b03 ∷ drive 15128 7 0x08000 ∷ drive 15137 1 0x03a00 ∷ drive 15149 7 0x00000 ∷ drive 15158 1 0x01300 ∷ drive 15567 1 0x05300 ∷ drive 15619 7 0x08000 ∷ drive 15666 1 0x01300 ∷ drive 15676 1 0x013ff ∷ drive 15721 7 0x00000 ∷ drive 15816 1 0x053ff ∷ drive 15871 7 0x08000 ∷ drive 15915 1 0x013ff ∷ drive 15925 1 0x01300 ∷ drive 15973 7 0x00000 ∷ drive 16065 1 0x05300 ∷ drive 16123 7 0x08000 ∷ drive 16164 1 0x01300 ∷ drive 16174 1 0x013ff ∷ drive 16225 7 0x00000 ∷ drive 16314 1 0x053ff ∷ drive 16375 7 0x08000 ∷ drive 16413 1 0x013ff ∷ drive 16423 1 0x01355 ∷ drive 16477 7 0x00000 ∷ drive 16563 1 0x05355 ∷ drive 16627 7 0x08000 ∷ drive 16662 1 0x01355 ∷ drive 16729 7 0x00000 ∷ drive 16812 1 0x05355 ∷ drive 16879 7 0x08000 ∷ drive 16911 1 0x01355 ∷ drive 16921 1 0x013aa ∷ drive 16981 7 0x00000 ∷ drive 17061 1 0x053aa ∷ drive 17131 7 0x08000 ∷ drive 17160 1 0x013aa ∷ drive 17233 7 0x00000 ∷ drive 17310 1 0x053aa ∷ drive 17383 7 0x08000 ∷ drive 17409 1 0x013aa ∷ drive 17419 1 0x01300 ∷ drive 17485 7 0x00000 ∷ drive 17559 1 0x05300 ∷ drive 17635 7 0x08000 ∷ drive 17658 1 0x01300 ∷ drive 17737 7 0x00000 ∷ drive 17808 1 0x05300 ∷ drive 17887 7 0x08000 ∷ drive 17907 1 0x01300 ∷ drive 17989 7 0x00000 ∷ drive 18057 1 0x05300 ∷ drive 18139 7 0x08000 ∷ drive 18156 1 0x01300 ∷ drive 18241 7 0x00000 ∷ drive 18306 1 0x05300 ∷ drive 18391 7 0x08000 ∷ drive 18405 1 0x01300 ∷ drive 18415 1 0x01201 ∷ drive 18493 7 0x00000 ∷ drive 18555 1 0x05201 ∷ drive 18643 7 0x08000 ∷ drive 18654 1 0x01201 ∷ drive 18664 1 0x01202 ∷ drive 18745 7 0x00000 ∷ drive 18804 1 0x05202 ∷ drive 18895 7 0x08000 ∷ drive 18903 1 0x01202 ∷ drive 18913 1 0x01303 ∷ drive 18997 7 0x00000 ∷ drive 19053 1 0x05303 ∷ drive 19147 7 0x08000 ∷ drive 19152 1 0x01303 ∷ drive 19162 1 0x01204 ∷ drive 19249 7 0x00000 ∷ drive 19302 1 0x05204 ∷ drive 19399 7 0x08000 ∷ drive 19401 1 0x01204 ∷ drive 19411 1 0x01200 ∷ drive 19501 7 0x00000 ∷ drive 19510 1 0x01b00 ∷ drive 19919 1 0x05b00 ∷ drive 19931 7 0x08000 ∷ drive 19940 1 0x01a00 ∷ drive 19952 7 0x00000 ∷ drive 19961 1 0x03b00 ∷ drive 20370 1 0x07b00 ∷ drive 20382 7 0x08000 ∷ drive 20391 1 0x03a00 ∷ drive 20403 7 0x00000 ∷ drive 20412 1 0x00000 ∷ []

abbrev pulsed_read_struck_due_events : List Event
pulsed_read_struck_due_events = events.Accept (command 1) ∷ events.Run (command 1) ∷ events.End (command 1) 0 ∷ []

abbrev pub pulsed_read_struck_due_shown : Shows
pulsed_read_struck_due_shown = record { rows = reverse pulsed_read_struck_due_rows; history = reverse pulsed_read_struck_due_events; ended = true }

-- ---- pulsed_write_struck_due

abbrev pub pulsed_write_struck_due : ScenarioValue
pulsed_write_struck_due = record {
  version = 1;
  hosts = record { dev = 3; latency = 28; most = 1; retries = 2; period = 55; offset = 2; lag = 120; offers = true } ∷ [];
  targets = record { dev = 6; latency = 15; retries = 1; disc = policies.Never; pick = picks.First; seek = 0; period = 50; offset = 8; begins = false } ∷ [];
  units = record { target = 6; unit = 2; blocks = 1; size = 16; depth = 1 } ∷ [];
  fills = [];
  tapes = [];
  loads = [];
  commands = record { host = 3; target = 6; unit = 2; at = 0; tag = tags.Simple 0; cdb = (10 ∷ 0 ∷ 0 ∷ 0 ∷ 1 ∷ 0 ∷ []); payload = payloads.Hex (0 ∷ 255 ∷ 0 ∷ 0 ∷ 255 ∷ 255 ∷ 1 ∷ 1 ∷ 1 ∷ 1 ∷ 127 ∷ 127 ∷ 128 ∷ 128 ∷ 254 ∷ 1 ∷ []) } ∷ [];
  aborts = [];
  resets = [];
  faults = record { at = 11511; bit = 1 } ∷ [];
}

abbrev pub pulsed_write_struck_due_rows : List Row
pulsed_write_struck_due_rows = drive 1228 3 0x00208 ∷ drive 3656 3 0x00608 ∷ drive 4884 3 0x10748 ∷ drive 5002 3 0x10548 ∷ drive 5417 6 0x00200 ∷ drive 5535 3 0x10000 ∷ drive 5550 6 0x02a00 ∷ drive 5965 6 0x06a00 ∷ drive 5993 3 0x100c2 ∷ drive 6076 3 0x180c2 ∷ drive 6091 6 0x02a00 ∷ drive 6119 3 0x10000 ∷ drive 6134 6 0x06a00 ∷ drive 6162 3 0x10020 ∷ drive 6245 3 0x18020 ∷ drive 6260 6 0x02a00 ∷ drive 6288 3 0x10000 ∷ drive 6303 6 0x06a00 ∷ drive 6331 3 0x10100 ∷ drive 6414 3 0x18100 ∷ drive 6429 6 0x02a00 ∷ drive 6457 3 0x10000 ∷ drive 6472 6 0x06a00 ∷ drive 6500 3 0x10001 ∷ drive 6583 3 0x18001 ∷ drive 6598 6 0x02a00 ∷ drive 6626 3 0x10000 ∷ drive 6641 6 0x06a00 ∷ drive 6669 3 0x10103 ∷ drive 6752 3 0x18103 ∷ drive 6767 6 0x02a00 ∷ drive 6795 3 0x10000 ∷ drive 6810 6 0x06a00 ∷ drive 6838 3 0x10001 ∷ drive 6921 3 0x18001 ∷ drive 6936 6 0x02a00 ∷ drive 6964 3 0x10000 ∷ drive 6979 6 0x06a00 ∷ drive 7007 3 0x10037 ∷ drive 7090 3 0x18037 ∷ drive 7105 6 0x02a00 ∷ drive 7133 3 0x10000 ∷ drive 7148 6 0x06a00 ∷ drive 7176 3 0x00002 ∷ drive 7294 3 0x08002 ∷ drive 7309 6 0x02a00 ∷ drive 7337 3 0x00000 ∷ drive 7352 6 0x03a00 ∷ drive 8167 6 0x03a01 ∷ drive 8237 6 0x07a01 ∷ drive 8265 3 0x08000 ∷ drive 8280 6 0x03b03 ∷ drive 8308 3 0x00000 ∷ drive 8350 6 0x07b03 ∷ drive 8378 3 0x08000 ∷ drive 8393 6 0x03a01 ∷ drive 8421 3 0x00000 ∷ drive 8463 6 0x07a01 ∷ drive 8491 3 0x08000 ∷ drive 8506 6 0x03a37 ∷ drive 8534 3 0x00000 ∷ drive 8576 6 0x07a37 ∷ drive 8604 3 0x08000 ∷ drive 8619 6 0x03a02 ∷ drive 8647 3 0x00000 ∷ drive 8689 6 0x07a02 ∷ drive 8717 3 0x08000 ∷ drive 8732 6 0x03a00 ∷ drive 8760 3 0x00000 ∷ drive 8775 6 0x00a00 ∷ drive 9190 6 0x04a00 ∷ drive 9218 3 0x0010a ∷ drive 9301 3 0x0810a ∷ drive 9316 6 0x00a00 ∷ drive 9344 3 0x00000 ∷ drive 9359 6 0x04a00 ∷ drive 9387 3 0x00100 ∷ drive 9470 3 0x08100 ∷ drive 9485 6 0x00a00 ∷ drive 9513 3 0x00000 ∷ drive 9528 6 0x04a00 ∷ drive 9556 3 0x00100 ∷ drive 9639 3 0x08100 ∷ drive 9654 6 0x00a00 ∷ drive 9682 3 0x00000 ∷ drive 9697 6 0x04a00 ∷ drive 9725 3 0x00100 ∷ drive 9808 3 0x08100 ∷ drive 9823 6 0x00a00 ∷ drive 9851 3 0x00000 ∷ drive 9866 6 0x04a00 ∷ drive 9894 3 0x00001 ∷ drive 9977 3 0x08001 ∷ drive 9992 6 0x00a00 ∷ drive 10020 3 0x00000 ∷ drive 10035 6 0x04a00 ∷ drive 10063 3 0x00100 ∷ drive 10146 3 0x08100 ∷ drive 10161 6 0x00a00 ∷ drive 10189 3 0x00000 ∷ drive 10204 6 0x00200 ∷ drive 10619 6 0x04200 ∷ drive 10647 3 0x00100 ∷ drive 10724 6 0x00200 ∷ drive 10767 3 0x08100 ∷ drive 10854 6 0x04200 ∷ drive 10885 3 0x00100 ∷ drive 10895 3 0x001ff ∷ drive 10959 6 0x00200 ∷ drive 11015 3 0x081ff ∷ drive 11089 6 0x04200 ∷ drive 11133 3 0x001ff ∷ drive 11143 3 0x00100 ∷ drive 11194 6 0x00200 ∷ drive 11263 3 0x08100 ∷ drive 11324 6 0x04200 ∷ drive 11381 3 0x00100 ∷ drive 11429 6 0x00200 ∷ drive 11511 3 0x08100 ∷ strike 11511 6 1 ∷ drive 11559 6 0x04200 ∷ drive 11629 3 0x00100 ∷ drive 11639 3 0x001ff ∷ drive 11664 6 0x00200 ∷ drive 11759 3 0x081ff ∷ drive 11794 6 0x04200 ∷ drive 11877 3 0x001ff ∷ drive 11899 6 0x00200 ∷ drive 12007 3 0x081ff ∷ drive 12029 6 0x04200 ∷ drive 12125 3 0x001ff ∷ drive 12134 6 0x00200 ∷ drive 12135 3 0x00001 ∷ drive 12255 3 0x08001 ∷ drive 12264 6 0x04200 ∷ drive 12369 6 0x00200 ∷ drive 12373 3 0x00001 ∷ drive 12499 6 0x04200 ∷ drive 12503 3 0x08001 ∷ drive 12604 6 0x00200 ∷ drive 12621 3 0x00001 ∷ drive 12734 6 0x04200 ∷ drive 12751 3 0x08001 ∷ drive 12839 6 0x00200 ∷ drive 12869 3 0x00001 ∷ drive 12969 6 0x04200 ∷ drive 12999 3 0x08001 ∷ drive 13074 6 0x00200 ∷ drive 13117 3 0x00001 ∷ drive 13127 3 0x0007f ∷ drive 13204 6 0x04200 ∷ drive 13247 3 0x0807f ∷ drive 13309 6 0x00200 ∷ drive 13365 3 0x0007f ∷ drive 13439 6 0x04200 ∷ drive 13495 3 0x0807f ∷ drive 13544 6 0x00200 ∷ drive 13613 3 0x0007f ∷ drive 13623 3 0x00080 ∷ drive 13674 6 0x04200 ∷ drive 13743 3 0x08080 ∷ drive 13779 6 0x00200 ∷ drive 13861 3 0x00080 ∷ drive 13909 6 0x04200 ∷ drive 13991 3 0x08080 ∷ drive 14014 6 0x00200 ∷ drive 14109 3 0x00080 ∷ drive 14119 3 0x000fe ∷ drive 14144 6 0x04200 ∷ drive 14239 3 0x080fe ∷ drive 14249 6 0x00200 ∷ drive 14357 3 0x000fe ∷ drive 14367 3 0x00001 ∷ drive 14487 3 0x08001 ∷ drive 14605 3 0x00001 ∷ drive 14615 3 0x00000 ∷ drive 14620 6 0x03a00 ∷ drive 15435 6 0x03b03 ∷ drive 15505 6 0x07b03 ∷ drive 15533 3 0x08000 ∷ drive 15548 6 0x03a00 ∷ drive 15576 3 0x00000 ∷ drive 15591 6 0x00200 ∷ drive 16006 6 0x04200 ∷ drive 16034 3 0x00100 ∷ drive 16111 6 0x00200 ∷ drive 16154 3 0x08100 ∷ drive 16241 6 0x04200 ∷ drive 16272 3 0x00100 ∷ drive 16282 3 0x001ff ∷ drive 16346 6 0x00200 ∷ drive 16402 3 0x081ff ∷ drive 16476 6 0x04200 ∷ drive 16520 3 0x001ff ∷ drive 16530 3 0x00100 ∷ drive 16581 6 0x00200 ∷ drive 16650 3 0x08100 ∷ drive 16711 6 0x04200 ∷ drive 16768 3 0x00100 ∷ drive 16816 6 0x00200 ∷ drive 16898 3 0x08100 ∷ drive 16946 6 0x04200 ∷ drive 17016 3 0x00100 ∷ drive 17026 3 0x001ff ∷ drive 17051 6 0x00200 ∷ drive 17146 3 0x081ff ∷ drive 17181 6 0x04200 ∷ drive 17264 3 0x001ff ∷ drive 17286 6 0x00200 ∷ drive 17394 3 0x081ff ∷ drive 17416 6 0x04200 ∷ drive 17512 3 0x001ff ∷ drive 17521 6 0x00200 ∷ drive 17522 3 0x00001 ∷ drive 17642 3 0x08001 ∷ drive 17651 6 0x04200 ∷ drive 17756 6 0x00200 ∷ drive 17760 3 0x00001 ∷ drive 17886 6 0x04200 ∷ drive 17890 3 0x08001 ∷ drive 17991 6 0x00200 ∷ drive 18008 3 0x00001 ∷ drive 18121 6 0x04200 ∷ drive 18138 3 0x08001 ∷ drive 18226 6 0x00200 ∷ drive 18256 3 0x00001 ∷ drive 18356 6 0x04200 ∷ drive 18386 3 0x08001 ∷ drive 18461 6 0x00200 ∷ drive 18504 3 0x00001 ∷ drive 18514 3 0x0007f ∷ drive 18591 6 0x04200 ∷ drive 18634 3 0x0807f ∷ drive 18696 6 0x00200 ∷ drive 18752 3 0x0007f ∷ drive 18826 6 0x04200 ∷ drive 18882 3 0x0807f ∷ drive 18931 6 0x00200 ∷ drive 19000 3 0x0007f ∷ drive 19010 3 0x00080 ∷ drive 19061 6 0x04200 ∷ drive 19130 3 0x08080 ∷ drive 19166 6 0x00200 ∷ drive 19248 3 0x00080 ∷ drive 19296 6 0x04200 ∷ drive 19378 3 0x08080 ∷ drive 19401 6 0x00200 ∷ drive 19496 3 0x00080 ∷ drive 19506 3 0x000fe ∷ drive 19531 6 0x04200 ∷ drive 19626 3 0x080fe ∷ drive 19636 6 0x00200 ∷ drive 19744 3 0x000fe ∷ drive 19754 3 0x00001 ∷ drive 19874 3 0x08001 ∷ drive 19992 3 0x00001 ∷ drive 20002 3 0x00000 ∷ drive 20007 6 0x01a00 ∷ drive 20822 6 0x01b00 ∷ drive 20892 6 0x05b00 ∷ drive 20920 3 0x08000 ∷ drive 20935 6 0x01a00 ∷ drive 20963 3 0x00000 ∷ drive 20978 6 0x03b00 ∷ drive 21393 6 0x07b00 ∷ drive 21421 3 0x08000 ∷ drive 21436 6 0x03a00 ∷ drive 21464 3 0x00000 ∷ drive 21479 6 0x00000 ∷ []

abbrev pulsed_write_struck_due_events : List Event
pulsed_write_struck_due_events = events.Accept (command 1) ∷ events.Run (command 1) ∷ events.End (command 1) 0 ∷ []

abbrev pub pulsed_write_struck_due_shown : Shows
pulsed_write_struck_due_shown = record { rows = reverse pulsed_write_struck_due_rows; history = reverse pulsed_write_struck_due_events; ended = true }

-- ---- pulses_out_due

abbrev pub pulses_out_due : ScenarioValue
pulses_out_due = record {
  version = 1;
  hosts = record { dev = 7; latency = 90; most = 1; retries = 2; period = 50; offset = 8; lag = 0; offers = true } ∷ [];
  targets = record { dev = 0; latency = 60; retries = 2; disc = policies.Never; pick = picks.First; seek = 0; period = 50; offset = 8; begins = false } ∷ [];
  units = record { target = 0; unit = 0; blocks = 1; size = 16; depth = 1 } ∷ [];
  fills = [];
  tapes = [];
  loads = [];
  commands = record { host = 7; target = 0; unit = 0; at = 0; tag = tags.Untagged; cdb = (10 ∷ 0 ∷ 0 ∷ 0 ∷ 1 ∷ 0 ∷ []); payload = payloads.Hex (0 ∷ 0 ∷ 0 ∷ 1 ∷ 1 ∷ 1 ∷ 1 ∷ 2 ∷ 2 ∷ 2 ∷ 255 ∷ 255 ∷ 0 ∷ 0 ∷ 255 ∷ 0 ∷ []) } ∷ [];
  aborts = [];
  resets = [];
  faults = [];
}

abbrev pub pulses_out_due_rows : List Row
pulses_out_due_rows = drive 1290 7 0x00280 ∷ drive 3780 7 0x00680 ∷ drive 5070 7 0x10781 ∷ drive 5250 7 0x10581 ∷ drive 5710 0 0x00200 ∷ drive 5890 7 0x10000 ∷ drive 5950 0 0x02a00 ∷ drive 6410 0 0x06a00 ∷ drive 6500 7 0x101c0 ∷ drive 6645 7 0x181c0 ∷ drive 6705 0 0x02a00 ∷ drive 6795 7 0x10000 ∷ drive 6855 0 0x06a00 ∷ drive 6945 7 0x10001 ∷ drive 7090 7 0x18001 ∷ drive 7150 0 0x02a00 ∷ drive 7240 7 0x10000 ∷ drive 7300 0 0x06a00 ∷ drive 7390 7 0x10103 ∷ drive 7535 7 0x18103 ∷ drive 7595 0 0x02a00 ∷ drive 7685 7 0x10000 ∷ drive 7745 0 0x06a00 ∷ drive 7835 7 0x10001 ∷ drive 7980 7 0x18001 ∷ drive 8040 0 0x02a00 ∷ drive 8130 7 0x10000 ∷ drive 8190 0 0x06a00 ∷ drive 8280 7 0x10032 ∷ drive 8425 7 0x18032 ∷ drive 8485 0 0x02a00 ∷ drive 8575 7 0x10000 ∷ drive 8635 0 0x06a00 ∷ drive 8725 7 0x00008 ∷ drive 8905 7 0x08008 ∷ drive 8965 0 0x02a00 ∷ drive 9055 7 0x00000 ∷ drive 9115 0 0x03a00 ∷ drive 9975 0 0x03a01 ∷ drive 10090 0 0x07a01 ∷ drive 10180 7 0x08000 ∷ drive 10240 0 0x03b03 ∷ drive 10330 7 0x00000 ∷ drive 10390 0 0x07b03 ∷ drive 10480 7 0x08000 ∷ drive 10540 0 0x03a01 ∷ drive 10630 7 0x00000 ∷ drive 10690 0 0x07a01 ∷ drive 10780 7 0x08000 ∷ drive 10840 0 0x03a32 ∷ drive 10930 7 0x00000 ∷ drive 10990 0 0x07a32 ∷ drive 11080 7 0x08000 ∷ drive 11140 0 0x03a08 ∷ drive 11230 7 0x00000 ∷ drive 11290 0 0x07a08 ∷ drive 11380 7 0x08000 ∷ drive 11440 0 0x03a00 ∷ drive 11530 7 0x00000 ∷ drive 11590 0 0x00a00 ∷ drive 12050 0 0x04a00 ∷ drive 12140 7 0x0010a ∷ drive 12285 7 0x0810a ∷ drive 12345 0 0x00a00 ∷ drive 12435 7 0x00000 ∷ drive 12495 0 0x04a00 ∷ drive 12585 7 0x00100 ∷ drive 12730 7 0x08100 ∷ drive 12790 0 0x00a00 ∷ drive 12880 7 0x00000 ∷ drive 12940 0 0x04a00 ∷ drive 13030 7 0x00100 ∷ drive 13175 7 0x08100 ∷ drive 13235 0 0x00a00 ∷ drive 13325 7 0x00000 ∷ drive 13385 0 0x04a00 ∷ drive 13475 7 0x00100 ∷ drive 13620 7 0x08100 ∷ drive 13680 0 0x00a00 ∷ drive 13770 7 0x00000 ∷ drive 13830 0 0x04a00 ∷ drive 13920 7 0x00001 ∷ drive 14065 7 0x08001 ∷ drive 14125 0 0x00a00 ∷ drive 14215 7 0x00000 ∷ drive 14275 0 0x04a00 ∷ drive 14365 7 0x00100 ∷ drive 14510 7 0x08100 ∷ drive 14570 0 0x00a00 ∷ drive 14660 7 0x00000 ∷ drive 14720 0 0x00200 ∷ drive 15180 0 0x04200 ∷ drive 15270 7 0x00100 ∷ drive 15330 0 0x00200 ∷ drive 15415 7 0x08100 ∷ drive 15480 0 0x04200 ∷ drive 15595 7 0x00100 ∷ drive 15630 0 0x00200 ∷ drive 15775 7 0x08100 ∷ drive 15780 0 0x04200 ∷ drive 15930 0 0x00200 ∷ drive 15955 7 0x00100 ∷ drive 16080 0 0x04200 ∷ drive 16135 7 0x08100 ∷ drive 16230 0 0x00200 ∷ drive 16315 7 0x00100 ∷ drive 16325 7 0x00001 ∷ drive 16380 0 0x04200 ∷ drive 16495 7 0x08001 ∷ drive 16530 0 0x00200 ∷ drive 16675 7 0x00001 ∷ drive 16680 0 0x04200 ∷ drive 16830 0 0x00200 ∷ drive 16855 7 0x08001 ∷ drive 16980 0 0x04200 ∷ drive 17035 7 0x00001 ∷ drive 17130 0 0x00200 ∷ drive 17215 7 0x08001 ∷ drive 17280 0 0x04200 ∷ drive 17395 7 0x00001 ∷ drive 17430 0 0x00200 ∷ drive 17575 7 0x08001 ∷ drive 17580 0 0x04200 ∷ drive 17730 0 0x00200 ∷ drive 17755 7 0x00001 ∷ drive 17765 7 0x00002 ∷ drive 17880 0 0x04200 ∷ drive 17935 7 0x08002 ∷ drive 18030 0 0x00200 ∷ drive 18115 7 0x00002 ∷ drive 18180 0 0x04200 ∷ drive 18295 7 0x08002 ∷ drive 18330 0 0x00200 ∷ drive 18475 7 0x00002 ∷ drive 18480 0 0x04200 ∷ drive 18630 0 0x00200 ∷ drive 18655 7 0x08002 ∷ drive 18780 0 0x04200 ∷ drive 18835 7 0x00002 ∷ drive 18845 7 0x001ff ∷ drive 18930 0 0x00200 ∷ drive 19015 7 0x081ff ∷ drive 19080 0 0x04200 ∷ drive 19195 7 0x001ff ∷ drive 19230 0 0x00200 ∷ drive 19375 7 0x081ff ∷ drive 19380 0 0x04200 ∷ drive 19530 0 0x00200 ∷ drive 19555 7 0x001ff ∷ drive 19565 7 0x00100 ∷ drive 19680 0 0x04200 ∷ drive 19735 7 0x08100 ∷ drive 19830 0 0x00200 ∷ drive 19915 7 0x00100 ∷ drive 20095 7 0x08100 ∷ drive 20275 7 0x00100 ∷ drive 20285 7 0x001ff ∷ drive 20455 7 0x081ff ∷ drive 20635 7 0x001ff ∷ drive 20645 7 0x00100 ∷ drive 20815 7 0x08100 ∷ drive 20995 7 0x00100 ∷ drive 21005 7 0x00000 ∷ drive 21055 0 0x01a00 ∷ drive 21915 0 0x01b00 ∷ drive 22030 0 0x05b00 ∷ drive 22120 7 0x08000 ∷ drive 22180 0 0x01a00 ∷ drive 22270 7 0x00000 ∷ drive 22330 0 0x03b00 ∷ drive 22790 0 0x07b00 ∷ drive 22880 7 0x08000 ∷ drive 22940 0 0x03a00 ∷ drive 23030 7 0x00000 ∷ drive 23090 0 0x00000 ∷ []

abbrev pulses_out_due_events : List Event
pulses_out_due_events = events.Accept (command 1) ∷ events.Run (command 1) ∷ events.End (command 1) 0 ∷ []

abbrev pub pulses_out_due_shown : Shows
pulses_out_due_shown = record { rows = reverse pulses_out_due_rows; history = reverse pulses_out_due_events; ended = true }

-- ---- queue_cleared_due

abbrev pub queue_cleared_due : ScenarioValue
queue_cleared_due = record {
  version = 1;
  hosts = record { dev = 7; latency = 0; most = 2; retries = 2; period = 0; offset = 0; lag = 0; offers = true } ∷ record { dev = 6; latency = 92; most = 1; retries = 2; period = 0; offset = 0; lag = 0; offers = true } ∷ [];
  targets = record { dev = 0; latency = 1; retries = 2; disc = policies.Command; pick = picks.First; seek = 90000; period = 0; offset = 0; begins = false } ∷ [];
  units = record { target = 0; unit = 0; blocks = 1; size = 16; depth = 4 } ∷ [];
  fills = [];
  tapes = [];
  loads = [];
  commands = record { host = 6; target = 0; unit = 0; at = 0; tag = tags.Untagged; cdb = (0 ∷ 0 ∷ 0 ∷ 0 ∷ 0 ∷ 0 ∷ []); payload = payloads.Nothing } ∷ record { host = 6; target = 0; unit = 0; at = 30000; tag = tags.Untagged; cdb = (0 ∷ 0 ∷ 0 ∷ 0 ∷ 0 ∷ 0 ∷ []); payload = payloads.Nothing } ∷ [];
  aborts = record { host = 7; target = 0; unit = 0; at = 12000; what = aborts.WholeQueue } ∷ [];
  resets = [];
  faults = [];
}

abbrev pub queue_cleared_due_rows : List Row
queue_cleared_due_rows = drive 1292 6 0x00240 ∷ drive 3784 6 0x00640 ∷ drive 5076 6 0x10741 ∷ drive 5258 6 0x10541 ∷ drive 5659 0 0x00200 ∷ drive 5841 6 0x10000 ∷ drive 5842 0 0x02a00 ∷ drive 6243 0 0x06a00 ∷ drive 6335 6 0x001c0 ∷ drive 6517 6 0x081c0 ∷ drive 6518 0 0x02a00 ∷ drive 6610 6 0x00000 ∷ drive 6611 0 0x00a00 ∷ drive 7012 0 0x04a00 ∷ drive 7104 6 0x00100 ∷ drive 7251 6 0x08100 ∷ drive 7252 0 0x00a00 ∷ drive 7344 6 0x00000 ∷ drive 7345 0 0x04a00 ∷ drive 7437 6 0x00100 ∷ drive 7584 6 0x08100 ∷ drive 7585 0 0x00a00 ∷ drive 7677 6 0x00000 ∷ drive 7678 0 0x04a00 ∷ drive 7770 6 0x00100 ∷ drive 7917 6 0x08100 ∷ drive 7918 0 0x00a00 ∷ drive 8010 6 0x00000 ∷ drive 8011 0 0x04a00 ∷ drive 8103 6 0x00100 ∷ drive 8250 6 0x08100 ∷ drive 8251 0 0x00a00 ∷ drive 8343 6 0x00000 ∷ drive 8344 0 0x04a00 ∷ drive 8436 6 0x00100 ∷ drive 8583 6 0x08100 ∷ drive 8584 0 0x00a00 ∷ drive 8676 6 0x00000 ∷ drive 8677 0 0x04a00 ∷ drive 8769 6 0x00100 ∷ drive 8916 6 0x08100 ∷ drive 8917 0 0x00a00 ∷ drive 9009 6 0x00000 ∷ drive 9010 0 0x03a00 ∷ drive 9811 0 0x03a04 ∷ drive 9867 0 0x07a04 ∷ drive 9959 6 0x08000 ∷ drive 9960 0 0x03a00 ∷ drive 10052 6 0x00000 ∷ drive 10053 0 0x00000 ∷ drive 12000 7 0x00280 ∷ drive 14400 7 0x00680 ∷ drive 15600 7 0x10781 ∷ drive 15690 7 0x10581 ∷ drive 16091 0 0x00200 ∷ drive 16181 7 0x10000 ∷ drive 16182 0 0x02a00 ∷ drive 16583 0 0x06a00 ∷ drive 16583 7 0x10080 ∷ drive 16638 7 0x18080 ∷ drive 16639 0 0x02a00 ∷ drive 16639 7 0x10000 ∷ drive 16640 0 0x06a00 ∷ drive 16640 7 0x0000e ∷ drive 16730 7 0x0800e ∷ drive 16731 0 0x02a00 ∷ drive 16731 7 0x00000 ∷ drive 16732 0 0x00000 ∷ drive 30092 6 0x00240 ∷ drive 32584 6 0x00640 ∷ drive 33876 6 0x10741 ∷ drive 34058 6 0x10541 ∷ drive 34459 0 0x00200 ∷ drive 34641 6 0x10000 ∷ drive 34642 0 0x02a00 ∷ drive 35043 0 0x06a00 ∷ drive 35135 6 0x001c0 ∷ drive 35317 6 0x081c0 ∷ drive 35318 0 0x02a00 ∷ drive 35410 6 0x00000 ∷ drive 35411 0 0x00a00 ∷ drive 35812 0 0x04a00 ∷ drive 35904 6 0x00100 ∷ drive 36051 6 0x08100 ∷ drive 36052 0 0x00a00 ∷ drive 36144 6 0x00000 ∷ drive 36145 0 0x04a00 ∷ drive 36237 6 0x00100 ∷ drive 36384 6 0x08100 ∷ drive 36385 0 0x00a00 ∷ drive 36477 6 0x00000 ∷ drive 36478 0 0x04a00 ∷ drive 36570 6 0x00100 ∷ drive 36717 6 0x08100 ∷ drive 36718 0 0x00a00 ∷ drive 36810 6 0x00000 ∷ drive 36811 0 0x04a00 ∷ drive 36903 6 0x00100 ∷ drive 37050 6 0x08100 ∷ drive 37051 0 0x00a00 ∷ drive 37143 6 0x00000 ∷ drive 37144 0 0x04a00 ∷ drive 37236 6 0x00100 ∷ drive 37383 6 0x08100 ∷ drive 37384 0 0x00a00 ∷ drive 37476 6 0x00000 ∷ drive 37477 0 0x04a00 ∷ drive 37569 6 0x00100 ∷ drive 37716 6 0x08100 ∷ drive 37717 0 0x00a00 ∷ drive 37809 6 0x00000 ∷ drive 37810 0 0x03a00 ∷ drive 38611 0 0x03a04 ∷ drive 38667 0 0x07a04 ∷ drive 38759 6 0x08000 ∷ drive 38760 0 0x03a00 ∷ drive 38852 6 0x00000 ∷ drive 38853 0 0x00000 ∷ drive 127811 0 0x00201 ∷ drive 130212 0 0x00601 ∷ drive 131413 0 0x01741 ∷ drive 131504 0 0x01541 ∷ drive 131996 6 0x00200 ∷ drive 131997 0 0x01741 ∷ drive 132088 0 0x03a80 ∷ drive 132180 6 0x00000 ∷ drive 132489 0 0x07a80 ∷ drive 132581 6 0x08000 ∷ drive 132582 0 0x03a00 ∷ drive 132674 6 0x00000 ∷ drive 132675 0 0x01a02 ∷ drive 133076 0 0x05a02 ∷ drive 133168 6 0x08000 ∷ drive 133169 0 0x01a00 ∷ drive 133261 6 0x00000 ∷ drive 133262 0 0x03b00 ∷ drive 133663 0 0x07b00 ∷ drive 133755 6 0x08000 ∷ drive 133756 0 0x03a00 ∷ drive 133848 6 0x00000 ∷ drive 133849 0 0x00000 ∷ drive 135141 6 0x00240 ∷ drive 137633 6 0x00640 ∷ drive 138925 6 0x10741 ∷ drive 139107 6 0x10541 ∷ drive 139508 0 0x00200 ∷ drive 139690 6 0x10000 ∷ drive 139691 0 0x02a00 ∷ drive 140092 0 0x06a00 ∷ drive 140184 6 0x00080 ∷ drive 140366 6 0x08080 ∷ drive 140367 0 0x02a00 ∷ drive 140459 6 0x00000 ∷ drive 140460 0 0x00a00 ∷ drive 140861 0 0x04a00 ∷ drive 140953 6 0x00103 ∷ drive 141100 6 0x08103 ∷ drive 141101 0 0x00a00 ∷ drive 141193 6 0x00000 ∷ drive 141194 0 0x04a00 ∷ drive 141286 6 0x00100 ∷ drive 141433 6 0x08100 ∷ drive 141434 0 0x00a00 ∷ drive 141526 6 0x00000 ∷ drive 141527 0 0x04a00 ∷ drive 141619 6 0x00100 ∷ drive 141766 6 0x08100 ∷ drive 141767 0 0x00a00 ∷ drive 141859 6 0x00000 ∷ drive 141860 0 0x04a00 ∷ drive 141952 6 0x00100 ∷ drive 142099 6 0x08100 ∷ drive 142100 0 0x00a00 ∷ drive 142192 6 0x00000 ∷ drive 142193 0 0x04a00 ∷ drive 142285 6 0x00112 ∷ drive 142432 6 0x08112 ∷ drive 142433 0 0x00a00 ∷ drive 142525 6 0x00000 ∷ drive 142526 0 0x04a00 ∷ drive 142618 6 0x00100 ∷ drive 142765 6 0x08100 ∷ drive 142766 0 0x00a00 ∷ drive 142858 6 0x00000 ∷ drive 142859 0 0x01200 ∷ drive 143660 0 0x01270 ∷ drive 143716 0 0x05270 ∷ drive 143808 6 0x08000 ∷ drive 143809 0 0x01300 ∷ drive 143901 6 0x00000 ∷ drive 143902 0 0x05300 ∷ drive 143994 6 0x08000 ∷ drive 143995 0 0x01306 ∷ drive 144087 6 0x00000 ∷ drive 144088 0 0x05306 ∷ drive 144180 6 0x08000 ∷ drive 144181 0 0x01300 ∷ drive 144273 6 0x00000 ∷ drive 144274 0 0x05300 ∷ drive 144366 6 0x08000 ∷ drive 144367 0 0x01300 ∷ drive 144459 6 0x00000 ∷ drive 144460 0 0x05300 ∷ drive 144552 6 0x08000 ∷ drive 144553 0 0x01300 ∷ drive 144645 6 0x00000 ∷ drive 144646 0 0x05300 ∷ drive 144738 6 0x08000 ∷ drive 144739 0 0x01300 ∷ drive 144831 6 0x00000 ∷ drive 144832 0 0x05300 ∷ drive 144924 6 0x08000 ∷ drive 144925 0 0x0130a ∷ drive 145017 6 0x00000 ∷ drive 145018 0 0x0530a ∷ drive 145110 6 0x08000 ∷ drive 145111 0 0x01300 ∷ drive 145203 6 0x00000 ∷ drive 145204 0 0x05300 ∷ drive 145296 6 0x08000 ∷ drive 145297 0 0x01300 ∷ drive 145389 6 0x00000 ∷ drive 145390 0 0x05300 ∷ drive 145482 6 0x08000 ∷ drive 145483 0 0x01300 ∷ drive 145575 6 0x00000 ∷ drive 145576 0 0x05300 ∷ drive 145668 6 0x08000 ∷ drive 145669 0 0x01300 ∷ drive 145761 6 0x00000 ∷ drive 145762 0 0x05300 ∷ drive 145854 6 0x08000 ∷ drive 145855 0 0x0122f ∷ drive 145947 6 0x00000 ∷ drive 145948 0 0x0522f ∷ drive 146040 6 0x08000 ∷ drive 146041 0 0x01300 ∷ drive 146133 6 0x00000 ∷ drive 146134 0 0x05300 ∷ drive 146226 6 0x08000 ∷ drive 146227 0 0x01300 ∷ drive 146319 6 0x00000 ∷ drive 146320 0 0x05300 ∷ drive 146412 6 0x08000 ∷ drive 146413 0 0x01300 ∷ drive 146505 6 0x00000 ∷ drive 146506 0 0x05300 ∷ drive 146598 6 0x08000 ∷ drive 146599 0 0x01300 ∷ drive 146691 6 0x00000 ∷ drive 146692 0 0x05300 ∷ drive 146784 6 0x08000 ∷ drive 146785 0 0x01300 ∷ drive 146877 6 0x00000 ∷ drive 146878 0 0x05300 ∷ drive 146970 6 0x08000 ∷ drive 146971 0 0x01200 ∷ drive 147063 6 0x00000 ∷ drive 147064 0 0x01b00 ∷ drive 147465 0 0x05b00 ∷ drive 147557 6 0x08000 ∷ drive 147558 0 0x01a00 ∷ drive 147650 6 0x00000 ∷ drive 147651 0 0x03b00 ∷ drive 148052 0 0x07b00 ∷ drive 148144 6 0x08000 ∷ drive 148145 0 0x03a00 ∷ drive 148237 6 0x00000 ∷ drive 148238 0 0x00000 ∷ []

abbrev queue_cleared_due_events : List Event
queue_cleared_due_events = events.Accept (command 1) ∷ events.Aborted 7 0 0 aborts.WholeQueue ∷ events.Accept (command 2) ∷ events.Run (command 2) ∷ events.End (command 2) 2 ∷ events.Accept (sense 2) ∷ events.Run (sense 2) ∷ events.End (sense 2) 0 ∷ []

abbrev pub queue_cleared_due_shown : Shows
queue_cleared_due_shown = record { rows = reverse queue_cleared_due_rows; history = reverse queue_cleared_due_events; ended = true }

-- ---- queue_orders_due

abbrev pub queue_orders_due : ScenarioValue
queue_orders_due = record {
  version = 1;
  hosts = record { dev = 7; latency = 0; most = 4; retries = 2; period = 0; offset = 0; lag = 0; offers = true } ∷ [];
  targets = record { dev = 0; latency = 0; retries = 2; disc = policies.Command; pick = picks.Last; seek = 20000; period = 0; offset = 0; begins = false } ∷ [];
  units = record { target = 0; unit = 0; blocks = 1; size = 16; depth = 4 } ∷ [];
  fills = [];
  tapes = [];
  loads = [];
  commands = record { host = 7; target = 0; unit = 0; at = 0; tag = tags.Simple 1; cdb = (0 ∷ 0 ∷ 0 ∷ 0 ∷ 0 ∷ 0 ∷ []); payload = payloads.Nothing } ∷ record { host = 7; target = 0; unit = 0; at = 0; tag = tags.Simple 2; cdb = (0 ∷ 0 ∷ 0 ∷ 0 ∷ 0 ∷ 0 ∷ []); payload = payloads.Nothing } ∷ record { host = 7; target = 0; unit = 0; at = 0; tag = tags.Head 4; cdb = (0 ∷ 0 ∷ 0 ∷ 0 ∷ 0 ∷ 0 ∷ []); payload = payloads.Nothing } ∷ [];
  aborts = [];
  resets = [];
  faults = [];
}

abbrev pub queue_orders_due_rows : List Row
queue_orders_due_rows = drive 1200 7 0x00280 ∷ drive 3600 7 0x00680 ∷ drive 4800 7 0x10781 ∷ drive 4890 7 0x10581 ∷ drive 5290 0 0x00200 ∷ drive 5380 7 0x10000 ∷ drive 5380 0 0x02a00 ∷ drive 5780 0 0x06a00 ∷ drive 5780 7 0x101c0 ∷ drive 5835 7 0x181c0 ∷ drive 5835 0 0x02a00 ∷ drive 5835 7 0x10000 ∷ drive 5835 0 0x06a00 ∷ drive 5835 7 0x10020 ∷ drive 5890 7 0x18020 ∷ drive 5890 0 0x02a00 ∷ drive 5890 7 0x10000 ∷ drive 5890 0 0x06a00 ∷ drive 5890 7 0x00001 ∷ drive 5980 7 0x08001 ∷ drive 5980 0 0x02a00 ∷ drive 5980 7 0x00000 ∷ drive 5980 0 0x00a00 ∷ drive 6380 0 0x04a00 ∷ drive 6380 7 0x00100 ∷ drive 6435 7 0x08100 ∷ drive 6435 0 0x00a00 ∷ drive 6435 7 0x00000 ∷ drive 6435 0 0x04a00 ∷ drive 6435 7 0x00100 ∷ drive 6490 7 0x08100 ∷ drive 6490 0 0x00a00 ∷ drive 6490 7 0x00000 ∷ drive 6490 0 0x04a00 ∷ drive 6490 7 0x00100 ∷ drive 6545 7 0x08100 ∷ drive 6545 0 0x00a00 ∷ drive 6545 7 0x00000 ∷ drive 6545 0 0x04a00 ∷ drive 6545 7 0x00100 ∷ drive 6600 7 0x08100 ∷ drive 6600 0 0x00a00 ∷ drive 6600 7 0x00000 ∷ drive 6600 0 0x04a00 ∷ drive 6600 7 0x00100 ∷ drive 6655 7 0x08100 ∷ drive 6655 0 0x00a00 ∷ drive 6655 7 0x00000 ∷ drive 6655 0 0x04a00 ∷ drive 6655 7 0x00100 ∷ drive 6710 7 0x08100 ∷ drive 6710 0 0x00a00 ∷ drive 6710 7 0x00000 ∷ drive 6710 0 0x03a00 ∷ drive 7510 0 0x03a04 ∷ drive 7565 0 0x07a04 ∷ drive 7565 7 0x08000 ∷ drive 7565 0 0x03a00 ∷ drive 7565 7 0x00000 ∷ drive 7565 0 0x00000 ∷ drive 8765 7 0x00280 ∷ drive 11165 7 0x00680 ∷ drive 12365 7 0x10781 ∷ drive 12455 7 0x10581 ∷ drive 12855 0 0x00200 ∷ drive 12945 7 0x10000 ∷ drive 12945 0 0x02a00 ∷ drive 13345 0 0x06a00 ∷ drive 13345 7 0x101c0 ∷ drive 13400 7 0x181c0 ∷ drive 13400 0 0x02a00 ∷ drive 13400 7 0x10000 ∷ drive 13400 0 0x06a00 ∷ drive 13400 7 0x10020 ∷ drive 13455 7 0x18020 ∷ drive 13455 0 0x02a00 ∷ drive 13455 7 0x10000 ∷ drive 13455 0 0x06a00 ∷ drive 13455 7 0x00002 ∷ drive 13545 7 0x08002 ∷ drive 13545 0 0x02a00 ∷ drive 13545 7 0x00000 ∷ drive 13545 0 0x00a00 ∷ drive 13945 0 0x04a00 ∷ drive 13945 7 0x00100 ∷ drive 14000 7 0x08100 ∷ drive 14000 0 0x00a00 ∷ drive 14000 7 0x00000 ∷ drive 14000 0 0x04a00 ∷ drive 14000 7 0x00100 ∷ drive 14055 7 0x08100 ∷ drive 14055 0 0x00a00 ∷ drive 14055 7 0x00000 ∷ drive 14055 0 0x04a00 ∷ drive 14055 7 0x00100 ∷ drive 14110 7 0x08100 ∷ drive 14110 0 0x00a00 ∷ drive 14110 7 0x00000 ∷ drive 14110 0 0x04a00 ∷ drive 14110 7 0x00100 ∷ drive 14165 7 0x08100 ∷ drive 14165 0 0x00a00 ∷ drive 14165 7 0x00000 ∷ drive 14165 0 0x04a00 ∷ drive 14165 7 0x00100 ∷ drive 14220 7 0x08100 ∷ drive 14220 0 0x00a00 ∷ drive 14220 7 0x00000 ∷ drive 14220 0 0x04a00 ∷ drive 14220 7 0x00100 ∷ drive 14275 7 0x08100 ∷ drive 14275 0 0x00a00 ∷ drive 14275 7 0x00000 ∷ drive 14275 0 0x03a00 ∷ drive 15075 0 0x03a04 ∷ drive 15130 0 0x07a04 ∷ drive 15130 7 0x08000 ∷ drive 15130 0 0x03a00 ∷ drive 15130 7 0x00000 ∷ drive 15130 0 0x00000 ∷ drive 16330 7 0x00280 ∷ drive 18730 7 0x00680 ∷ drive 19930 7 0x10781 ∷ drive 20020 7 0x10581 ∷ drive 20420 0 0x00200 ∷ drive 20510 7 0x10000 ∷ drive 20510 0 0x02a00 ∷ drive 20910 0 0x06a00 ∷ drive 20910 7 0x101c0 ∷ drive 20965 7 0x181c0 ∷ drive 20965 0 0x02a00 ∷ drive 20965 7 0x10000 ∷ drive 20965 0 0x06a00 ∷ drive 20965 7 0x10121 ∷ drive 21020 7 0x18121 ∷ drive 21020 0 0x02a00 ∷ drive 21020 7 0x10000 ∷ drive 21020 0 0x06a00 ∷ drive 21020 7 0x00004 ∷ drive 21110 7 0x08004 ∷ drive 21110 0 0x02a00 ∷ drive 21110 7 0x00000 ∷ drive 21110 0 0x00a00 ∷ drive 21510 0 0x04a00 ∷ drive 21510 7 0x00100 ∷ drive 21565 7 0x08100 ∷ drive 21565 0 0x00a00 ∷ drive 21565 7 0x00000 ∷ drive 21565 0 0x04a00 ∷ drive 21565 7 0x00100 ∷ drive 21620 7 0x08100 ∷ drive 21620 0 0x00a00 ∷ drive 21620 7 0x00000 ∷ drive 21620 0 0x04a00 ∷ drive 21620 7 0x00100 ∷ drive 21675 7 0x08100 ∷ drive 21675 0 0x00a00 ∷ drive 21675 7 0x00000 ∷ drive 21675 0 0x04a00 ∷ drive 21675 7 0x00100 ∷ drive 21730 7 0x08100 ∷ drive 21730 0 0x00a00 ∷ drive 21730 7 0x00000 ∷ drive 21730 0 0x04a00 ∷ drive 21730 7 0x00100 ∷ drive 21785 7 0x08100 ∷ drive 21785 0 0x00a00 ∷ drive 21785 7 0x00000 ∷ drive 21785 0 0x04a00 ∷ drive 21785 7 0x00100 ∷ drive 21840 7 0x08100 ∷ drive 21840 0 0x00a00 ∷ drive 21840 7 0x00000 ∷ drive 21840 0 0x03a00 ∷ drive 22640 0 0x03a04 ∷ drive 22695 0 0x07a04 ∷ drive 22695 7 0x08000 ∷ drive 22695 0 0x03a00 ∷ drive 22695 7 0x00000 ∷ drive 22695 0 0x00000 ∷ drive 26710 0 0x00201 ∷ drive 29110 0 0x00601 ∷ drive 30310 0 0x01781 ∷ drive 30400 0 0x01581 ∷ drive 30800 7 0x00200 ∷ drive 30800 0 0x01781 ∷ drive 30890 0 0x03a80 ∷ drive 30890 7 0x00000 ∷ drive 31290 0 0x07a80 ∷ drive 31290 7 0x08000 ∷ drive 31290 0 0x03a20 ∷ drive 31290 7 0x00000 ∷ drive 31345 0 0x07a20 ∷ drive 31345 7 0x08000 ∷ drive 31345 0 0x03a01 ∷ drive 31345 7 0x00000 ∷ drive 31400 0 0x07a01 ∷ drive 31400 7 0x08000 ∷ drive 31400 0 0x03a00 ∷ drive 31400 7 0x00000 ∷ drive 31400 0 0x01b00 ∷ drive 31800 0 0x05b00 ∷ drive 31800 7 0x08000 ∷ drive 31800 0 0x01a00 ∷ drive 31800 7 0x00000 ∷ drive 31800 0 0x03b00 ∷ drive 32200 0 0x07b00 ∷ drive 32200 7 0x08000 ∷ drive 32200 0 0x03a00 ∷ drive 32200 7 0x00000 ∷ drive 32200 0 0x00000 ∷ drive 52200 0 0x00201 ∷ drive 54600 0 0x00601 ∷ drive 55800 0 0x01781 ∷ drive 55890 0 0x01581 ∷ drive 56290 7 0x00200 ∷ drive 56290 0 0x01781 ∷ drive 56380 0 0x03a80 ∷ drive 56380 7 0x00000 ∷ drive 56780 0 0x07a80 ∷ drive 56780 7 0x08000 ∷ drive 56780 0 0x03a20 ∷ drive 56780 7 0x00000 ∷ drive 56835 0 0x07a20 ∷ drive 56835 7 0x08000 ∷ drive 56835 0 0x03a04 ∷ drive 56835 7 0x00000 ∷ drive 56890 0 0x07a04 ∷ drive 56890 7 0x08000 ∷ drive 56890 0 0x03a00 ∷ drive 56890 7 0x00000 ∷ drive 56890 0 0x01b00 ∷ drive 57290 0 0x05b00 ∷ drive 57290 7 0x08000 ∷ drive 57290 0 0x01a00 ∷ drive 57290 7 0x00000 ∷ drive 57290 0 0x03b00 ∷ drive 57690 0 0x07b00 ∷ drive 57690 7 0x08000 ∷ drive 57690 0 0x03a00 ∷ drive 57690 7 0x00000 ∷ drive 57690 0 0x00000 ∷ drive 77690 0 0x00201 ∷ drive 80090 0 0x00601 ∷ drive 81290 0 0x01781 ∷ drive 81380 0 0x01581 ∷ drive 81780 7 0x00200 ∷ drive 81780 0 0x01781 ∷ drive 81870 0 0x03a80 ∷ drive 81870 7 0x00000 ∷ drive 82270 0 0x07a80 ∷ drive 82270 7 0x08000 ∷ drive 82270 0 0x03a20 ∷ drive 82270 7 0x00000 ∷ drive 82325 0 0x07a20 ∷ drive 82325 7 0x08000 ∷ drive 82325 0 0x03a02 ∷ drive 82325 7 0x00000 ∷ drive 82380 0 0x07a02 ∷ drive 82380 7 0x08000 ∷ drive 82380 0 0x03a00 ∷ drive 82380 7 0x00000 ∷ drive 82380 0 0x01b00 ∷ drive 82780 0 0x05b00 ∷ drive 82780 7 0x08000 ∷ drive 82780 0 0x01a00 ∷ drive 82780 7 0x00000 ∷ drive 82780 0 0x03b00 ∷ drive 83180 0 0x07b00 ∷ drive 83180 7 0x08000 ∷ drive 83180 0 0x03a00 ∷ drive 83180 7 0x00000 ∷ drive 83180 0 0x00000 ∷ []

abbrev queue_orders_due_events : List Event
queue_orders_due_events = events.Accept (command 1) ∷ events.Accept (command 2) ∷ events.Accept (command 3) ∷ events.Run (command 1) ∷ events.End (command 1) 0 ∷ events.Run (command 3) ∷ events.End (command 3) 0 ∷ events.Run (command 2) ∷ events.End (command 2) 0 ∷ []

abbrev pub queue_orders_due_shown : Shows
queue_orders_due_shown = record { rows = reverse queue_orders_due_rows; history = reverse queue_orders_due_events; ended = true }

-- ---- ready_units_due

abbrev pub ready_units_due : ScenarioValue
ready_units_due = record {
  version = 1;
  hosts = record { dev = 7; latency = 10; most = 4; retries = 2; period = 0; offset = 0; lag = 0; offers = true } ∷ [];
  targets = record { dev = 2; latency = 40; retries = 2; disc = policies.Command; pick = picks.First; seek = 0; period = 0; offset = 0; begins = false } ∷ record { dev = 1; latency = 0; retries = 2; disc = policies.Command; pick = picks.First; seek = 3000; period = 0; offset = 0; begins = false } ∷ [];
  units = record { target = 2; unit = 0; blocks = 1; size = 16; depth = 2 } ∷ record { target = 2; unit = 5; blocks = 1; size = 16; depth = 2 } ∷ record { target = 1; unit = 3; blocks = 1; size = 16; depth = 2 } ∷ [];
  fills = [];
  tapes = [];
  loads = [];
  commands = record { host = 7; target = 2; unit = 5; at = 0; tag = tags.Simple 1; cdb = (0 ∷ 0 ∷ 0 ∷ 0 ∷ 0 ∷ 0 ∷ []); payload = payloads.Nothing } ∷ record { host = 7; target = 2; unit = 0; at = 0; tag = tags.Simple 2; cdb = (0 ∷ 0 ∷ 0 ∷ 0 ∷ 0 ∷ 0 ∷ []); payload = payloads.Nothing } ∷ record { host = 7; target = 1; unit = 3; at = 0; tag = tags.Simple 3; cdb = (0 ∷ 0 ∷ 0 ∷ 0 ∷ 0 ∷ 0 ∷ []); payload = payloads.Nothing } ∷ [];
  aborts = [];
  resets = [];
  faults = [];
}

abbrev pub ready_units_due_rows : List Row
ready_units_due_rows = drive 1210 7 0x00280 ∷ drive 3620 7 0x00680 ∷ drive 4830 7 0x10784 ∷ drive 4930 7 0x10584 ∷ drive 5370 2 0x00200 ∷ drive 5470 7 0x10000 ∷ drive 5510 2 0x02a00 ∷ drive 5950 2 0x06a00 ∷ drive 5960 7 0x101c5 ∷ drive 6025 7 0x181c5 ∷ drive 6065 2 0x02a00 ∷ drive 6075 7 0x10000 ∷ drive 6115 2 0x06a00 ∷ drive 6125 7 0x10020 ∷ drive 6190 7 0x18020 ∷ drive 6230 2 0x02a00 ∷ drive 6240 7 0x10000 ∷ drive 6280 2 0x06a00 ∷ drive 6290 7 0x00001 ∷ drive 6390 7 0x08001 ∷ drive 6430 2 0x02a00 ∷ drive 6440 7 0x00000 ∷ drive 6480 2 0x00a00 ∷ drive 6920 2 0x04a00 ∷ drive 6930 7 0x00100 ∷ drive 6995 7 0x08100 ∷ drive 7035 2 0x00a00 ∷ drive 7045 7 0x00000 ∷ drive 7085 2 0x04a00 ∷ drive 7095 7 0x00100 ∷ drive 7160 7 0x08100 ∷ drive 7200 2 0x00a00 ∷ drive 7210 7 0x00000 ∷ drive 7250 2 0x04a00 ∷ drive 7260 7 0x00100 ∷ drive 7325 7 0x08100 ∷ drive 7365 2 0x00a00 ∷ drive 7375 7 0x00000 ∷ drive 7415 2 0x04a00 ∷ drive 7425 7 0x00100 ∷ drive 7490 7 0x08100 ∷ drive 7530 2 0x00a00 ∷ drive 7540 7 0x00000 ∷ drive 7580 2 0x04a00 ∷ drive 7590 7 0x00100 ∷ drive 7655 7 0x08100 ∷ drive 7695 2 0x00a00 ∷ drive 7705 7 0x00000 ∷ drive 7745 2 0x04a00 ∷ drive 7755 7 0x00100 ∷ drive 7820 7 0x08100 ∷ drive 7860 2 0x00a00 ∷ drive 7870 7 0x00000 ∷ drive 7910 2 0x03a00 ∷ drive 8750 2 0x03a04 ∷ drive 8845 2 0x07a04 ∷ drive 8855 7 0x08000 ∷ drive 8895 2 0x03a00 ∷ drive 8905 7 0x00000 ∷ drive 8945 2 0x00000 ∷ drive 10155 7 0x00280 ∷ drive 10185 2 0x00204 ∷ drive 12565 7 0x00680 ∷ drive 12605 2 0x00000 ∷ drive 13775 7 0x10784 ∷ drive 13875 7 0x10584 ∷ drive 14315 2 0x00200 ∷ drive 14415 7 0x10000 ∷ drive 14455 2 0x02a00 ∷ drive 14895 2 0x06a00 ∷ drive 14905 7 0x101c0 ∷ drive 14970 7 0x181c0 ∷ drive 15010 2 0x02a00 ∷ drive 15020 7 0x10000 ∷ drive 15060 2 0x06a00 ∷ drive 15070 7 0x10020 ∷ drive 15135 7 0x18020 ∷ drive 15175 2 0x02a00 ∷ drive 15185 7 0x10000 ∷ drive 15225 2 0x06a00 ∷ drive 15235 7 0x00002 ∷ drive 15335 7 0x08002 ∷ drive 15375 2 0x02a00 ∷ drive 15385 7 0x00000 ∷ drive 15425 2 0x00a00 ∷ drive 15865 2 0x04a00 ∷ drive 15875 7 0x00100 ∷ drive 15940 7 0x08100 ∷ drive 15980 2 0x00a00 ∷ drive 15990 7 0x00000 ∷ drive 16030 2 0x04a00 ∷ drive 16040 7 0x00100 ∷ drive 16105 7 0x08100 ∷ drive 16145 2 0x00a00 ∷ drive 16155 7 0x00000 ∷ drive 16195 2 0x04a00 ∷ drive 16205 7 0x00100 ∷ drive 16270 7 0x08100 ∷ drive 16310 2 0x00a00 ∷ drive 16320 7 0x00000 ∷ drive 16360 2 0x04a00 ∷ drive 16370 7 0x00100 ∷ drive 16435 7 0x08100 ∷ drive 16475 2 0x00a00 ∷ drive 16485 7 0x00000 ∷ drive 16525 2 0x04a00 ∷ drive 16535 7 0x00100 ∷ drive 16600 7 0x08100 ∷ drive 16640 2 0x00a00 ∷ drive 16650 7 0x00000 ∷ drive 16690 2 0x04a00 ∷ drive 16700 7 0x00100 ∷ drive 16765 7 0x08100 ∷ drive 16805 2 0x00a00 ∷ drive 16815 7 0x00000 ∷ drive 16855 2 0x03a00 ∷ drive 17695 2 0x03a04 ∷ drive 17790 2 0x07a04 ∷ drive 17800 7 0x08000 ∷ drive 17840 2 0x03a00 ∷ drive 17850 7 0x00000 ∷ drive 17890 2 0x00000 ∷ drive 19100 7 0x00280 ∷ drive 19130 2 0x00204 ∷ drive 21510 7 0x00680 ∷ drive 21550 2 0x00000 ∷ drive 22720 7 0x10782 ∷ drive 22820 7 0x10582 ∷ drive 23220 1 0x00200 ∷ drive 23320 7 0x10000 ∷ drive 23320 1 0x02a00 ∷ drive 23720 1 0x06a00 ∷ drive 23730 7 0x101c3 ∷ drive 23795 7 0x181c3 ∷ drive 23795 1 0x02a00 ∷ drive 23805 7 0x10000 ∷ drive 23805 1 0x06a00 ∷ drive 23815 7 0x10020 ∷ drive 23880 7 0x18020 ∷ drive 23880 1 0x02a00 ∷ drive 23890 7 0x10000 ∷ drive 23890 1 0x06a00 ∷ drive 23900 7 0x00103 ∷ drive 24000 7 0x08103 ∷ drive 24000 1 0x02a00 ∷ drive 24010 7 0x00000 ∷ drive 24010 1 0x00a00 ∷ drive 24410 1 0x04a00 ∷ drive 24420 7 0x00100 ∷ drive 24485 7 0x08100 ∷ drive 24485 1 0x00a00 ∷ drive 24495 7 0x00000 ∷ drive 24495 1 0x04a00 ∷ drive 24505 7 0x00100 ∷ drive 24570 7 0x08100 ∷ drive 24570 1 0x00a00 ∷ drive 24580 7 0x00000 ∷ drive 24580 1 0x04a00 ∷ drive 24590 7 0x00100 ∷ drive 24655 7 0x08100 ∷ drive 24655 1 0x00a00 ∷ drive 24665 7 0x00000 ∷ drive 24665 1 0x04a00 ∷ drive 24675 7 0x00100 ∷ drive 24740 7 0x08100 ∷ drive 24740 1 0x00a00 ∷ drive 24750 7 0x00000 ∷ drive 24750 1 0x04a00 ∷ drive 24760 7 0x00100 ∷ drive 24825 7 0x08100 ∷ drive 24825 1 0x00a00 ∷ drive 24835 7 0x00000 ∷ drive 24835 1 0x04a00 ∷ drive 24845 7 0x00100 ∷ drive 24910 7 0x08100 ∷ drive 24910 1 0x00a00 ∷ drive 24920 7 0x00000 ∷ drive 24920 1 0x03a00 ∷ drive 25720 1 0x03a04 ∷ drive 25775 1 0x07a04 ∷ drive 25785 7 0x08000 ∷ drive 25785 1 0x03a00 ∷ drive 25795 7 0x00000 ∷ drive 25795 1 0x00000 ∷ drive 27035 2 0x00204 ∷ drive 27920 1 0x00202 ∷ drive 29475 2 0x00604 ∷ drive 29475 1 0x00000 ∷ drive 30715 2 0x01784 ∷ drive 30845 2 0x01584 ∷ drive 31255 7 0x00200 ∷ drive 31295 2 0x01784 ∷ drive 31425 2 0x03a85 ∷ drive 31435 7 0x00000 ∷ drive 31865 2 0x07a85 ∷ drive 31875 7 0x08000 ∷ drive 31915 2 0x03a20 ∷ drive 31925 7 0x00000 ∷ drive 32010 2 0x07a20 ∷ drive 32020 7 0x08000 ∷ drive 32060 2 0x03a01 ∷ drive 32070 7 0x00000 ∷ drive 32155 2 0x07a01 ∷ drive 32165 7 0x08000 ∷ drive 32205 2 0x03a00 ∷ drive 32215 7 0x00000 ∷ drive 32255 2 0x01b00 ∷ drive 32695 2 0x05b00 ∷ drive 32705 7 0x08000 ∷ drive 32745 2 0x01a00 ∷ drive 32755 7 0x00000 ∷ drive 32795 2 0x03b00 ∷ drive 33235 2 0x07b00 ∷ drive 33245 7 0x08000 ∷ drive 33285 2 0x03a00 ∷ drive 33295 7 0x00000 ∷ drive 33335 2 0x00000 ∷ drive 34535 1 0x00202 ∷ drive 34575 2 0x00204 ∷ drive 37015 2 0x00604 ∷ drive 37015 1 0x00000 ∷ drive 38255 2 0x01784 ∷ drive 38385 2 0x01584 ∷ drive 38795 7 0x00200 ∷ drive 38835 2 0x01784 ∷ drive 38965 2 0x03a80 ∷ drive 38975 7 0x00000 ∷ drive 39405 2 0x07a80 ∷ drive 39415 7 0x08000 ∷ drive 39455 2 0x03a20 ∷ drive 39465 7 0x00000 ∷ drive 39550 2 0x07a20 ∷ drive 39560 7 0x08000 ∷ drive 39600 2 0x03a02 ∷ drive 39610 7 0x00000 ∷ drive 39695 2 0x07a02 ∷ drive 39705 7 0x08000 ∷ drive 39745 2 0x03a00 ∷ drive 39755 7 0x00000 ∷ drive 39795 2 0x01b00 ∷ drive 40235 2 0x05b00 ∷ drive 40245 7 0x08000 ∷ drive 40285 2 0x01a00 ∷ drive 40295 7 0x00000 ∷ drive 40335 2 0x03b00 ∷ drive 40775 2 0x07b00 ∷ drive 40785 7 0x08000 ∷ drive 40825 2 0x03a00 ∷ drive 40835 7 0x00000 ∷ drive 40875 2 0x00000 ∷ drive 42075 1 0x00202 ∷ drive 44475 1 0x00602 ∷ drive 45675 1 0x01782 ∷ drive 45765 1 0x01582 ∷ drive 46175 7 0x00200 ∷ drive 46175 1 0x01782 ∷ drive 46265 1 0x03a83 ∷ drive 46275 7 0x00000 ∷ drive 46665 1 0x07a83 ∷ drive 46675 7 0x08000 ∷ drive 46675 1 0x03a20 ∷ drive 46685 7 0x00000 ∷ drive 46730 1 0x07a20 ∷ drive 46740 7 0x08000 ∷ drive 46740 1 0x03b03 ∷ drive 46750 7 0x00000 ∷ drive 46795 1 0x07b03 ∷ drive 46805 7 0x08000 ∷ drive 46805 1 0x03a00 ∷ drive 46815 7 0x00000 ∷ drive 46815 1 0x01b00 ∷ drive 47215 1 0x05b00 ∷ drive 47225 7 0x08000 ∷ drive 47225 1 0x01a00 ∷ drive 47235 7 0x00000 ∷ drive 47235 1 0x03b00 ∷ drive 47635 1 0x07b00 ∷ drive 47645 7 0x08000 ∷ drive 47645 1 0x03a00 ∷ drive 47655 7 0x00000 ∷ drive 47655 1 0x00000 ∷ []

abbrev ready_units_due_events : List Event
ready_units_due_events = events.Accept (command 1) ∷ events.Accept (command 2) ∷ events.Accept (command 3) ∷ events.Run (command 1) ∷ events.End (command 1) 0 ∷ events.Run (command 2) ∷ events.End (command 2) 0 ∷ events.Run (command 3) ∷ events.End (command 3) 0 ∷ []

abbrev pub ready_units_due_shown : Shows
ready_units_due_shown = record { rows = reverse ready_units_due_rows; history = reverse ready_units_due_events; ended = true }

-- ---- request_of_a_target_struck_due

abbrev pub request_of_a_target_struck_due : ScenarioValue
request_of_a_target_struck_due = record {
  version = 2;
  hosts = record { dev = 5; latency = 0; most = 1; retries = 2; period = 30; offset = 4; lag = 0; offers = false } ∷ [];
  targets = record { dev = 2; latency = 17; retries = 2; disc = policies.Never; pick = picks.First; seek = 0; period = 25; offset = 3; begins = true } ∷ [];
  units = record { target = 2; unit = 0; blocks = 1; size = 16; depth = 1 } ∷ [];
  fills = [];
  tapes = [];
  loads = [];
  commands = record { host = 5; target = 2; unit = 0; at = 0; tag = tags.Untagged; cdb = (18 ∷ 0 ∷ 0 ∷ 0 ∷ 6 ∷ 0 ∷ []); payload = payloads.Nothing } ∷ [];
  aborts = [];
  resets = [];
  faults = record { at = 7022; bit = 6 } ∷ record { at = 9761; bit = 1 } ∷ [];
}

abbrev pub request_of_a_target_struck_due_rows : List Row
request_of_a_target_struck_due_rows = drive 1200 5 0x00220 ∷ drive 3600 5 0x00620 ∷ drive 4800 5 0x10724 ∷ drive 4890 5 0x10524 ∷ drive 5307 2 0x00200 ∷ drive 5397 5 0x10000 ∷ drive 5414 2 0x02a00 ∷ drive 5831 2 0x06a00 ∷ drive 5831 5 0x001c0 ∷ drive 5921 5 0x081c0 ∷ drive 5938 2 0x02a00 ∷ drive 5938 5 0x00000 ∷ drive 5955 2 0x03a00 ∷ drive 6772 2 0x03a01 ∷ drive 6844 2 0x07a01 ∷ drive 6844 5 0x08000 ∷ drive 6861 2 0x03b03 ∷ drive 6861 5 0x00000 ∷ drive 6933 2 0x07b03 ∷ drive 6933 5 0x08000 ∷ drive 6950 2 0x03a01 ∷ drive 6950 5 0x00000 ∷ drive 7022 2 0x07a01 ∷ strike 7022 5 6 ∷ drive 7022 5 0x18000 ∷ drive 7039 2 0x03a00 ∷ drive 7112 5 0x10000 ∷ drive 7129 2 0x02a00 ∷ drive 7546 2 0x06a00 ∷ drive 7546 5 0x00109 ∷ drive 7636 5 0x08109 ∷ drive 7653 2 0x02a00 ∷ drive 7653 5 0x00000 ∷ drive 7670 2 0x03a00 ∷ drive 8487 2 0x03a01 ∷ drive 8559 2 0x07a01 ∷ drive 8559 5 0x08000 ∷ drive 8576 2 0x03b03 ∷ drive 8576 5 0x00000 ∷ drive 8648 2 0x07b03 ∷ drive 8648 5 0x08000 ∷ drive 8665 2 0x03a01 ∷ drive 8665 5 0x00000 ∷ drive 8737 2 0x07a01 ∷ drive 8737 5 0x08000 ∷ drive 8754 2 0x03a19 ∷ drive 8754 5 0x00000 ∷ drive 8826 2 0x07a19 ∷ drive 8826 5 0x08000 ∷ drive 8843 2 0x03b03 ∷ drive 8843 5 0x00000 ∷ drive 8915 2 0x07b03 ∷ drive 8915 5 0x18000 ∷ drive 8932 2 0x03a00 ∷ drive 9005 5 0x10000 ∷ drive 9022 2 0x02a00 ∷ drive 9439 2 0x06a00 ∷ drive 9439 5 0x10001 ∷ drive 9494 5 0x18001 ∷ drive 9511 2 0x02a00 ∷ drive 9511 5 0x10000 ∷ drive 9528 2 0x06a00 ∷ drive 9528 5 0x10103 ∷ drive 9583 5 0x18103 ∷ drive 9600 2 0x02a00 ∷ drive 9600 5 0x10000 ∷ drive 9617 2 0x06a00 ∷ drive 9617 5 0x10001 ∷ drive 9672 5 0x18001 ∷ drive 9689 2 0x02a00 ∷ drive 9689 5 0x10000 ∷ drive 9706 2 0x06a00 ∷ drive 9706 5 0x1011e ∷ drive 9761 5 0x1811e ∷ strike 9761 2 1 ∷ drive 9778 2 0x02a00 ∷ drive 9778 5 0x10000 ∷ drive 9795 2 0x06a00 ∷ drive 9795 5 0x00103 ∷ drive 9885 5 0x08103 ∷ drive 9902 2 0x02a00 ∷ drive 9902 5 0x00000 ∷ drive 9919 2 0x06a00 ∷ drive 9919 5 0x10001 ∷ drive 10009 5 0x18001 ∷ drive 10026 2 0x02a00 ∷ drive 10026 5 0x10000 ∷ drive 10043 2 0x06a00 ∷ drive 10043 5 0x10103 ∷ drive 10098 5 0x18103 ∷ drive 10115 2 0x02a00 ∷ drive 10115 5 0x10000 ∷ drive 10132 2 0x06a00 ∷ drive 10132 5 0x10001 ∷ drive 10187 5 0x18001 ∷ drive 10204 2 0x02a00 ∷ drive 10204 5 0x10000 ∷ drive 10221 2 0x06a00 ∷ drive 10221 5 0x1011e ∷ drive 10276 5 0x1811e ∷ drive 10293 2 0x02a00 ∷ drive 10293 5 0x10000 ∷ drive 10310 2 0x06a00 ∷ drive 10310 5 0x00103 ∷ drive 10400 5 0x08103 ∷ drive 10417 2 0x02a00 ∷ drive 10417 5 0x00000 ∷ drive 10434 2 0x00a00 ∷ drive 10851 2 0x04a00 ∷ drive 10851 5 0x00112 ∷ drive 10906 5 0x08112 ∷ drive 10923 2 0x00a00 ∷ drive 10923 5 0x00000 ∷ drive 10940 2 0x04a00 ∷ drive 10940 5 0x00100 ∷ drive 10995 5 0x08100 ∷ drive 11012 2 0x00a00 ∷ drive 11012 5 0x00000 ∷ drive 11029 2 0x04a00 ∷ drive 11029 5 0x00100 ∷ drive 11084 5 0x08100 ∷ drive 11101 2 0x00a00 ∷ drive 11101 5 0x00000 ∷ drive 11118 2 0x04a00 ∷ drive 11118 5 0x00100 ∷ drive 11173 5 0x08100 ∷ drive 11190 2 0x00a00 ∷ drive 11190 5 0x00000 ∷ drive 11207 2 0x04a00 ∷ drive 11207 5 0x00106 ∷ drive 11262 5 0x08106 ∷ drive 11279 2 0x00a00 ∷ drive 11279 5 0x00000 ∷ drive 11296 2 0x04a00 ∷ drive 11296 5 0x00100 ∷ drive 11351 5 0x08100 ∷ drive 11368 2 0x00a00 ∷ drive 11368 5 0x00000 ∷ drive 11385 2 0x01200 ∷ drive 12202 2 0x01300 ∷ drive 12274 2 0x05300 ∷ drive 12274 5 0x08000 ∷ drive 12304 5 0x00000 ∷ drive 12321 2 0x01300 ∷ drive 12411 2 0x05300 ∷ drive 12411 5 0x08000 ∷ drive 12441 5 0x00000 ∷ drive 12458 2 0x01300 ∷ drive 12463 2 0x01202 ∷ drive 12548 2 0x05202 ∷ drive 12548 5 0x08000 ∷ drive 12578 5 0x00000 ∷ drive 12595 2 0x01202 ∷ drive 12685 2 0x05202 ∷ drive 12685 5 0x08000 ∷ drive 12715 5 0x00000 ∷ drive 12732 2 0x01202 ∷ drive 12737 2 0x0121f ∷ drive 12822 2 0x0521f ∷ drive 12822 5 0x08000 ∷ drive 12852 5 0x00000 ∷ drive 12869 2 0x0121f ∷ drive 12874 2 0x01300 ∷ drive 12959 2 0x05300 ∷ drive 12959 5 0x08000 ∷ drive 12989 5 0x00000 ∷ drive 13006 2 0x01300 ∷ drive 13011 2 0x01200 ∷ drive 13011 2 0x01b00 ∷ drive 13428 2 0x05b00 ∷ drive 13428 5 0x08000 ∷ drive 13445 2 0x01a00 ∷ drive 13445 5 0x00000 ∷ drive 13462 2 0x03b00 ∷ drive 13879 2 0x07b00 ∷ drive 13879 5 0x08000 ∷ drive 13896 2 0x03a00 ∷ drive 13896 5 0x00000 ∷ drive 13913 2 0x00000 ∷ []

abbrev request_of_a_target_struck_due_events : List Event
request_of_a_target_struck_due_events = events.Accept (command 1) ∷ events.Run (command 1) ∷ events.End (command 1) 0 ∷ []

abbrev pub request_of_a_target_struck_due_shown : Shows
request_of_a_target_struck_due_shown = record { rows = reverse request_of_a_target_struck_due_rows; history = reverse request_of_a_target_struck_due_events; ended = true }

-- ---- requests_of_a_target_due

abbrev pub requests_of_a_target_due : ScenarioValue
requests_of_a_target_due = record {
  version = 2;
  hosts = record { dev = 1; latency = 9; most = 1; retries = 2; period = 33; offset = 1; lag = 25; offers = false } ∷ [];
  targets = record { dev = 0; latency = 44; retries = 2; disc = policies.Never; pick = picks.First; seek = 0; period = 27; offset = 6; begins = true } ∷ [];
  units = record { target = 0; unit = 0; blocks = 1; size = 16; depth = 1 } ∷ [];
  fills = record { target = 0; unit = 0; lba = 0; bytes = (128 ∷ 255 ∷ 127 ∷ 0 ∷ 0 ∷ 0 ∷ 0 ∷ 255 ∷ 1 ∷ 254 ∷ 85 ∷ 170 ∷ 51 ∷ 51 ∷ 51 ∷ 51 ∷ []) } ∷ [];
  tapes = [];
  loads = [];
  commands = record { host = 1; target = 0; unit = 0; at = 0; tag = tags.Untagged; cdb = (8 ∷ 0 ∷ 0 ∷ 0 ∷ 1 ∷ 0 ∷ []); payload = payloads.Nothing } ∷ [];
  aborts = [];
  resets = [];
  faults = [];
}

abbrev pub requests_of_a_target_due_rows : List Row
requests_of_a_target_due_rows = drive 1209 1 0x00202 ∷ drive 3618 1 0x00602 ∷ drive 4827 1 0x10703 ∷ drive 4926 1 0x10503 ∷ drive 5370 0 0x00200 ∷ drive 5469 1 0x10000 ∷ drive 5513 0 0x02a00 ∷ drive 5957 0 0x06a00 ∷ drive 5966 1 0x001c0 ∷ drive 6065 1 0x081c0 ∷ drive 6109 0 0x02a00 ∷ drive 6118 1 0x00000 ∷ drive 6162 0 0x03a00 ∷ drive 7006 0 0x03a01 ∷ drive 7105 0 0x07a01 ∷ drive 7114 1 0x08000 ∷ drive 7158 0 0x03b03 ∷ drive 7167 1 0x00000 ∷ drive 7257 0 0x07b03 ∷ drive 7266 1 0x08000 ∷ drive 7310 0 0x03a01 ∷ drive 7319 1 0x00000 ∷ drive 7409 0 0x07a01 ∷ drive 7418 1 0x08000 ∷ drive 7462 0 0x03b1b ∷ drive 7471 1 0x00000 ∷ drive 7561 0 0x07b1b ∷ drive 7570 1 0x08000 ∷ drive 7614 0 0x03b06 ∷ drive 7623 1 0x00000 ∷ drive 7713 0 0x07b06 ∷ drive 7722 1 0x18000 ∷ drive 7766 0 0x03a00 ∷ drive 7821 1 0x10000 ∷ drive 7865 0 0x02a00 ∷ drive 8309 0 0x06a00 ∷ drive 8318 1 0x10001 ∷ drive 8382 1 0x18001 ∷ drive 8426 0 0x02a00 ∷ drive 8435 1 0x10000 ∷ drive 8479 0 0x06a00 ∷ drive 8488 1 0x10103 ∷ drive 8552 1 0x18103 ∷ drive 8596 0 0x02a00 ∷ drive 8605 1 0x10000 ∷ drive 8649 0 0x06a00 ∷ drive 8658 1 0x10001 ∷ drive 8722 1 0x18001 ∷ drive 8766 0 0x02a00 ∷ drive 8775 1 0x10000 ∷ drive 8819 0 0x06a00 ∷ drive 8828 1 0x10121 ∷ drive 8892 1 0x18121 ∷ drive 8936 0 0x02a00 ∷ drive 8945 1 0x10000 ∷ drive 8989 0 0x06a00 ∷ drive 8998 1 0x00001 ∷ drive 9097 1 0x08001 ∷ drive 9141 0 0x02a00 ∷ drive 9150 1 0x00000 ∷ drive 9194 0 0x00a00 ∷ drive 9638 0 0x04a00 ∷ drive 9647 1 0x00008 ∷ drive 9711 1 0x08008 ∷ drive 9755 0 0x00a00 ∷ drive 9764 1 0x00000 ∷ drive 9808 0 0x04a00 ∷ drive 9817 1 0x00100 ∷ drive 9881 1 0x08100 ∷ drive 9925 0 0x00a00 ∷ drive 9934 1 0x00000 ∷ drive 9978 0 0x04a00 ∷ drive 9987 1 0x00100 ∷ drive 10051 1 0x08100 ∷ drive 10095 0 0x00a00 ∷ drive 10104 1 0x00000 ∷ drive 10148 0 0x04a00 ∷ drive 10157 1 0x00100 ∷ drive 10221 1 0x08100 ∷ drive 10265 0 0x00a00 ∷ drive 10274 1 0x00000 ∷ drive 10318 0 0x04a00 ∷ drive 10327 1 0x00001 ∷ drive 10391 1 0x08001 ∷ drive 10435 0 0x00a00 ∷ drive 10444 1 0x00000 ∷ drive 10488 0 0x04a00 ∷ drive 10497 1 0x00100 ∷ drive 10561 1 0x08100 ∷ drive 10605 0 0x00a00 ∷ drive 10614 1 0x00000 ∷ drive 10658 0 0x01200 ∷ drive 11502 0 0x01280 ∷ drive 11601 0 0x05280 ∷ drive 11635 1 0x08000 ∷ drive 11674 1 0x00000 ∷ drive 11675 0 0x01280 ∷ drive 11680 0 0x013ff ∷ drive 11777 0 0x053ff ∷ drive 11811 1 0x08000 ∷ drive 11850 1 0x00000 ∷ drive 11851 0 0x013ff ∷ drive 11856 0 0x0127f ∷ drive 11953 0 0x0527f ∷ drive 11987 1 0x08000 ∷ drive 12026 1 0x00000 ∷ drive 12027 0 0x0127f ∷ drive 12032 0 0x01300 ∷ drive 12129 0 0x05300 ∷ drive 12163 1 0x08000 ∷ drive 12202 1 0x00000 ∷ drive 12203 0 0x01300 ∷ drive 12305 0 0x05300 ∷ drive 12339 1 0x08000 ∷ drive 12378 1 0x00000 ∷ drive 12379 0 0x01300 ∷ drive 12481 0 0x05300 ∷ drive 12515 1 0x08000 ∷ drive 12554 1 0x00000 ∷ drive 12555 0 0x01300 ∷ drive 12657 0 0x05300 ∷ drive 12691 1 0x08000 ∷ drive 12730 1 0x00000 ∷ drive 12731 0 0x01300 ∷ drive 12736 0 0x013ff ∷ drive 12833 0 0x053ff ∷ drive 12867 1 0x08000 ∷ drive 12906 1 0x00000 ∷ drive 12907 0 0x013ff ∷ drive 12912 0 0x01201 ∷ drive 13009 0 0x05201 ∷ drive 13043 1 0x08000 ∷ drive 13082 1 0x00000 ∷ drive 13083 0 0x01201 ∷ drive 13088 0 0x012fe ∷ drive 13185 0 0x052fe ∷ drive 13219 1 0x08000 ∷ drive 13258 1 0x00000 ∷ drive 13259 0 0x012fe ∷ drive 13264 0 0x01355 ∷ drive 13361 0 0x05355 ∷ drive 13395 1 0x08000 ∷ drive 13434 1 0x00000 ∷ drive 13435 0 0x01355 ∷ drive 13440 0 0x013aa ∷ drive 13537 0 0x053aa ∷ drive 13571 1 0x08000 ∷ drive 13610 1 0x00000 ∷ drive 13611 0 0x013aa ∷ drive 13616 0 0x01333 ∷ drive 13713 0 0x05333 ∷ drive 13747 1 0x08000 ∷ drive 13786 1 0x00000 ∷ drive 13787 0 0x01333 ∷ drive 13889 0 0x05333 ∷ drive 13923 1 0x08000 ∷ drive 13962 1 0x00000 ∷ drive 13963 0 0x01333 ∷ drive 14065 0 0x05333 ∷ drive 14099 1 0x08000 ∷ drive 14138 1 0x00000 ∷ drive 14139 0 0x01333 ∷ drive 14241 0 0x05333 ∷ drive 14275 1 0x08000 ∷ drive 14314 1 0x00000 ∷ drive 14315 0 0x01333 ∷ drive 14320 0 0x01200 ∷ drive 14358 0 0x01b00 ∷ drive 14802 0 0x05b00 ∷ drive 14811 1 0x08000 ∷ drive 14855 0 0x01a00 ∷ drive 14864 1 0x00000 ∷ drive 14908 0 0x03b00 ∷ drive 15352 0 0x07b00 ∷ drive 15361 1 0x08000 ∷ drive 15405 0 0x03a00 ∷ drive 15414 1 0x00000 ∷ drive 15458 0 0x00000 ∷ []

abbrev requests_of_a_target_due_events : List Event
requests_of_a_target_due_events = events.Accept (command 1) ∷ events.Run (command 1) ∷ events.End (command 1) 0 ∷ []

abbrev pub requests_of_a_target_due_shown : Shows
requests_of_a_target_due_shown = record { rows = reverse requests_of_a_target_due_rows; history = reverse requests_of_a_target_due_events; ended = true }

-- ---- reselected_id_struck_due

abbrev pub reselected_id_struck_due : ScenarioValue
reselected_id_struck_due = record {
  version = 1;
  hosts = record { dev = 1; latency = 30; most = 1; retries = 2; period = 0; offset = 0; lag = 0; offers = true } ∷ [];
  targets = record { dev = 6; latency = 11; retries = 1; disc = policies.Command; pick = picks.First; seek = 5000; period = 0; offset = 0; begins = false } ∷ [];
  units = record { target = 6; unit = 4; blocks = 1; size = 16; depth = 1 } ∷ [];
  fills = [];
  tapes = [];
  loads = [];
  commands = record { host = 1; target = 6; unit = 4; at = 0; tag = tags.Untagged; cdb = (0 ∷ 0 ∷ 0 ∷ 0 ∷ 0 ∷ 0 ∷ []); payload = payloads.Nothing } ∷ [];
  aborts = [];
  resets = [];
  faults = record { at = 16742; bit = 1 } ∷ [];
}

abbrev pub reselected_id_struck_due_rows : List Row
reselected_id_struck_due_rows = drive 1230 1 0x00202 ∷ drive 3660 1 0x00602 ∷ drive 4890 1 0x10742 ∷ drive 5010 1 0x10542 ∷ drive 5421 6 0x00200 ∷ drive 5541 1 0x10000 ∷ drive 5552 6 0x02a00 ∷ drive 5963 6 0x06a00 ∷ drive 5993 1 0x000c4 ∷ drive 6113 1 0x080c4 ∷ drive 6124 6 0x02a00 ∷ drive 6154 1 0x00000 ∷ drive 6165 6 0x00a00 ∷ drive 6576 6 0x04a00 ∷ drive 6606 1 0x00100 ∷ drive 6691 1 0x08100 ∷ drive 6702 6 0x00a00 ∷ drive 6732 1 0x00000 ∷ drive 6743 6 0x04a00 ∷ drive 6773 1 0x00100 ∷ drive 6858 1 0x08100 ∷ drive 6869 6 0x00a00 ∷ drive 6899 1 0x00000 ∷ drive 6910 6 0x04a00 ∷ drive 6940 1 0x00100 ∷ drive 7025 1 0x08100 ∷ drive 7036 6 0x00a00 ∷ drive 7066 1 0x00000 ∷ drive 7077 6 0x04a00 ∷ drive 7107 1 0x00100 ∷ drive 7192 1 0x08100 ∷ drive 7203 6 0x00a00 ∷ drive 7233 1 0x00000 ∷ drive 7244 6 0x04a00 ∷ drive 7274 1 0x00100 ∷ drive 7359 1 0x08100 ∷ drive 7370 6 0x00a00 ∷ drive 7400 1 0x00000 ∷ drive 7411 6 0x04a00 ∷ drive 7441 1 0x00100 ∷ drive 7526 1 0x08100 ∷ drive 7537 6 0x00a00 ∷ drive 7567 1 0x00000 ∷ drive 7578 6 0x03a00 ∷ drive 8389 6 0x03a04 ∷ drive 8455 6 0x07a04 ∷ drive 8485 1 0x08000 ∷ drive 8496 6 0x03a00 ∷ drive 8526 1 0x00000 ∷ drive 8537 6 0x00000 ∷ drive 12589 6 0x00240 ∷ drive 15000 6 0x00640 ∷ drive 16211 6 0x01742 ∷ drive 16312 6 0x01542 ∷ strike 16742 1 1 ∷ drive 250016323 6 0x01400 ∷ drive 250216424 6 0x00000 ∷ drive 250217635 6 0x00240 ∷ drive 250220046 6 0x00640 ∷ drive 250221257 6 0x01742 ∷ drive 250221358 6 0x01542 ∷ drive 250221788 1 0x00200 ∷ drive 250221799 6 0x01742 ∷ drive 250221900 6 0x03b84 ∷ drive 250221930 1 0x00000 ∷ drive 250222311 6 0x07b84 ∷ drive 250222341 1 0x08000 ∷ drive 250222352 6 0x03a00 ∷ drive 250222382 1 0x00000 ∷ drive 250222393 6 0x01b00 ∷ drive 250222804 6 0x05b00 ∷ drive 250222834 1 0x08000 ∷ drive 250222845 6 0x01a00 ∷ drive 250222875 1 0x00000 ∷ drive 250222886 6 0x03b00 ∷ drive 250223297 6 0x07b00 ∷ drive 250223327 1 0x08000 ∷ drive 250223338 6 0x03a00 ∷ drive 250223368 1 0x00000 ∷ drive 250223379 6 0x00000 ∷ []

abbrev reselected_id_struck_due_events : List Event
reselected_id_struck_due_events = events.Accept (command 1) ∷ events.Run (command 1) ∷ events.End (command 1) 0 ∷ []

abbrev pub reselected_id_struck_due_shown : Shows
reselected_id_struck_due_shown = record { rows = reverse reselected_id_struck_due_rows; history = reverse reselected_id_struck_due_events; ended = true }

-- ---- reset_in_a_data_phase_due

abbrev pub reset_in_a_data_phase_due : ScenarioValue
reset_in_a_data_phase_due = record {
  version = 2;
  hosts = record { dev = 2; latency = 26; most = 1; retries = 2; period = 25; offset = 3; lag = 10; offers = true } ∷ [];
  targets = record { dev = 6; latency = 7; retries = 2; disc = policies.Never; pick = picks.First; seek = 0; period = 30; offset = 2; begins = false } ∷ [];
  units = record { target = 6; unit = 0; blocks = 1; size = 16; depth = 1 } ∷ [];
  fills = [];
  tapes = [];
  loads = [];
  commands = record { host = 2; target = 6; unit = 0; at = 0; tag = tags.Untagged; cdb = (10 ∷ 0 ∷ 0 ∷ 0 ∷ 1 ∷ 0 ∷ []); payload = payloads.From 128 } ∷ record { host = 2; target = 6; unit = 0; at = 20000; tag = tags.Untagged; cdb = (18 ∷ 0 ∷ 0 ∷ 0 ∷ 7 ∷ 0 ∷ []); payload = payloads.Nothing } ∷ [];
  aborts = [];
  resets = record { dev = 2; at = 10400 } ∷ [];
  faults = [];
}

abbrev pub reset_in_a_data_phase_due_rows : List Row
reset_in_a_data_phase_due_rows = drive 1226 2 0x00204 ∷ drive 3652 2 0x00604 ∷ drive 4878 2 0x10744 ∷ drive 4994 2 0x10544 ∷ drive 5401 6 0x00200 ∷ drive 5517 2 0x10000 ∷ drive 5524 6 0x02a00 ∷ drive 5931 6 0x06a00 ∷ drive 5957 2 0x101c0 ∷ drive 6038 2 0x181c0 ∷ drive 6045 6 0x02a00 ∷ drive 6071 2 0x10000 ∷ drive 6078 6 0x06a00 ∷ drive 6104 2 0x10001 ∷ drive 6185 2 0x18001 ∷ drive 6192 6 0x02a00 ∷ drive 6218 2 0x10000 ∷ drive 6225 6 0x06a00 ∷ drive 6251 2 0x10103 ∷ drive 6332 2 0x18103 ∷ drive 6339 6 0x02a00 ∷ drive 6365 2 0x10000 ∷ drive 6372 6 0x06a00 ∷ drive 6398 2 0x10001 ∷ drive 6479 2 0x18001 ∷ drive 6486 6 0x02a00 ∷ drive 6512 2 0x10000 ∷ drive 6519 6 0x06a00 ∷ drive 6545 2 0x10019 ∷ drive 6626 2 0x18019 ∷ drive 6633 6 0x02a00 ∷ drive 6659 2 0x10000 ∷ drive 6666 6 0x06a00 ∷ drive 6692 2 0x00103 ∷ drive 6808 2 0x08103 ∷ drive 6815 6 0x02a00 ∷ drive 6841 2 0x00000 ∷ drive 6848 6 0x03a00 ∷ drive 7655 6 0x03a01 ∷ drive 7717 6 0x07a01 ∷ drive 7743 2 0x08000 ∷ drive 7750 6 0x03b03 ∷ drive 7776 2 0x00000 ∷ drive 7812 6 0x07b03 ∷ drive 7838 2 0x08000 ∷ drive 7845 6 0x03a01 ∷ drive 7871 2 0x00000 ∷ drive 7907 6 0x07a01 ∷ drive 7933 2 0x08000 ∷ drive 7940 6 0x03b1e ∷ drive 7966 2 0x00000 ∷ drive 8002 6 0x07b1e ∷ drive 8028 2 0x08000 ∷ drive 8035 6 0x03a02 ∷ drive 8061 2 0x00000 ∷ drive 8097 6 0x07a02 ∷ drive 8123 2 0x08000 ∷ drive 8130 6 0x03a00 ∷ drive 8156 2 0x00000 ∷ drive 8163 6 0x00a00 ∷ drive 8570 6 0x04a00 ∷ drive 8596 2 0x0010a ∷ drive 8677 2 0x0810a ∷ drive 8684 6 0x00a00 ∷ drive 8710 2 0x00000 ∷ drive 8717 6 0x04a00 ∷ drive 8743 2 0x00100 ∷ drive 8824 2 0x08100 ∷ drive 8831 6 0x00a00 ∷ drive 8857 2 0x00000 ∷ drive 8864 6 0x04a00 ∷ drive 8890 2 0x00100 ∷ drive 8971 2 0x08100 ∷ drive 8978 6 0x00a00 ∷ drive 9004 2 0x00000 ∷ drive 9011 6 0x04a00 ∷ drive 9037 2 0x00100 ∷ drive 9118 2 0x08100 ∷ drive 9125 6 0x00a00 ∷ drive 9151 2 0x00000 ∷ drive 9158 6 0x04a00 ∷ drive 9184 2 0x00001 ∷ drive 9265 2 0x08001 ∷ drive 9272 6 0x00a00 ∷ drive 9298 2 0x00000 ∷ drive 9305 6 0x04a00 ∷ drive 9331 2 0x00100 ∷ drive 9412 2 0x08100 ∷ drive 9419 6 0x00a00 ∷ drive 9445 2 0x00000 ∷ drive 9452 6 0x00200 ∷ drive 9859 6 0x04200 ∷ drive 9885 2 0x00080 ∷ drive 9896 6 0x00200 ∷ drive 9936 2 0x08080 ∷ drive 9986 6 0x04200 ∷ drive 9992 2 0x00080 ∷ drive 10012 2 0x00181 ∷ drive 10023 6 0x00200 ∷ drive 10082 2 0x08181 ∷ drive 10113 6 0x04200 ∷ drive 10138 2 0x00181 ∷ drive 10143 2 0x00182 ∷ drive 10150 6 0x00200 ∷ drive 10228 2 0x08182 ∷ drive 10240 6 0x04200 ∷ drive 10277 6 0x00200 ∷ drive 10284 2 0x00182 ∷ drive 10289 2 0x00083 ∷ drive 10367 6 0x04200 ∷ drive 10374 2 0x08083 ∷ drive 10400 2 0x20000 ∷ drive 10407 6 0x00000 ∷ drive 35426 2 0x00000 ∷ drive 36652 2 0x00204 ∷ drive 39078 2 0x00604 ∷ drive 40304 2 0x10744 ∷ drive 40420 2 0x10544 ∷ drive 40827 6 0x00200 ∷ drive 40943 2 0x10000 ∷ drive 40950 6 0x02a00 ∷ drive 41357 6 0x06a00 ∷ drive 41383 2 0x101c0 ∷ drive 41464 2 0x181c0 ∷ drive 41471 6 0x02a00 ∷ drive 41497 2 0x10000 ∷ drive 41504 6 0x06a00 ∷ drive 41530 2 0x10001 ∷ drive 41611 2 0x18001 ∷ drive 41618 6 0x02a00 ∷ drive 41644 2 0x10000 ∷ drive 41651 6 0x06a00 ∷ drive 41677 2 0x10103 ∷ drive 41758 2 0x18103 ∷ drive 41765 6 0x02a00 ∷ drive 41791 2 0x10000 ∷ drive 41798 6 0x06a00 ∷ drive 41824 2 0x10001 ∷ drive 41905 2 0x18001 ∷ drive 41912 6 0x02a00 ∷ drive 41938 2 0x10000 ∷ drive 41945 6 0x06a00 ∷ drive 41971 2 0x10019 ∷ drive 42052 2 0x18019 ∷ drive 42059 6 0x02a00 ∷ drive 42085 2 0x10000 ∷ drive 42092 6 0x06a00 ∷ drive 42118 2 0x00103 ∷ drive 42234 2 0x08103 ∷ drive 42241 6 0x02a00 ∷ drive 42267 2 0x00000 ∷ drive 42274 6 0x03a00 ∷ drive 43081 6 0x03a01 ∷ drive 43143 6 0x07a01 ∷ drive 43169 2 0x08000 ∷ drive 43176 6 0x03b03 ∷ drive 43202 2 0x00000 ∷ drive 43238 6 0x07b03 ∷ drive 43264 2 0x08000 ∷ drive 43271 6 0x03a01 ∷ drive 43297 2 0x00000 ∷ drive 43333 6 0x07a01 ∷ drive 43359 2 0x08000 ∷ drive 43366 6 0x03b1e ∷ drive 43392 2 0x00000 ∷ drive 43428 6 0x07b1e ∷ drive 43454 2 0x08000 ∷ drive 43461 6 0x03a02 ∷ drive 43487 2 0x00000 ∷ drive 43523 6 0x07a02 ∷ drive 43549 2 0x08000 ∷ drive 43556 6 0x03a00 ∷ drive 43582 2 0x00000 ∷ drive 43589 6 0x00a00 ∷ drive 43996 6 0x04a00 ∷ drive 44022 2 0x00112 ∷ drive 44103 2 0x08112 ∷ drive 44110 6 0x00a00 ∷ drive 44136 2 0x00000 ∷ drive 44143 6 0x04a00 ∷ drive 44169 2 0x00100 ∷ drive 44250 2 0x08100 ∷ drive 44257 6 0x00a00 ∷ drive 44283 2 0x00000 ∷ drive 44290 6 0x04a00 ∷ drive 44316 2 0x00100 ∷ drive 44397 2 0x08100 ∷ drive 44404 6 0x00a00 ∷ drive 44430 2 0x00000 ∷ drive 44437 6 0x04a00 ∷ drive 44463 2 0x00100 ∷ drive 44544 2 0x08100 ∷ drive 44551 6 0x00a00 ∷ drive 44577 2 0x00000 ∷ drive 44584 6 0x04a00 ∷ drive 44610 2 0x00007 ∷ drive 44691 2 0x08007 ∷ drive 44698 6 0x00a00 ∷ drive 44724 2 0x00000 ∷ drive 44731 6 0x04a00 ∷ drive 44757 2 0x00100 ∷ drive 44838 2 0x08100 ∷ drive 44845 6 0x00a00 ∷ drive 44871 2 0x00000 ∷ drive 44878 6 0x01200 ∷ drive 45685 6 0x01300 ∷ drive 45747 6 0x05300 ∷ drive 45783 2 0x08000 ∷ drive 45784 6 0x01300 ∷ drive 45839 2 0x00000 ∷ drive 45874 6 0x05300 ∷ drive 45911 6 0x01300 ∷ drive 45916 6 0x01202 ∷ drive 45929 2 0x08000 ∷ drive 45985 2 0x00000 ∷ drive 46001 6 0x05202 ∷ drive 46038 6 0x01202 ∷ drive 46075 2 0x08000 ∷ drive 46128 6 0x05202 ∷ drive 46131 2 0x00000 ∷ drive 46165 6 0x01202 ∷ drive 46170 6 0x0121f ∷ drive 46221 2 0x08000 ∷ drive 46255 6 0x0521f ∷ drive 46277 2 0x00000 ∷ drive 46292 6 0x0121f ∷ drive 46297 6 0x01300 ∷ drive 46367 2 0x08000 ∷ drive 46382 6 0x05300 ∷ drive 46419 6 0x01300 ∷ drive 46423 2 0x00000 ∷ drive 46509 6 0x05300 ∷ drive 46513 2 0x08000 ∷ drive 46546 6 0x01300 ∷ drive 46551 6 0x01200 ∷ drive 46569 2 0x00000 ∷ drive 46659 2 0x08000 ∷ drive 46715 2 0x00000 ∷ drive 46722 6 0x01b00 ∷ drive 47129 6 0x05b00 ∷ drive 47155 2 0x08000 ∷ drive 47162 6 0x01a00 ∷ drive 47188 2 0x00000 ∷ drive 47195 6 0x03b00 ∷ drive 47602 6 0x07b00 ∷ drive 47628 2 0x08000 ∷ drive 47635 6 0x03a00 ∷ drive 47661 2 0x00000 ∷ drive 47668 6 0x00000 ∷ []

abbrev reset_in_a_data_phase_due_events : List Event
reset_in_a_data_phase_due_events = events.Accept (command 1) ∷ events.Reset 2 ∷ events.Accept (command 2) ∷ events.Run (command 2) ∷ events.End (command 2) 0 ∷ []

abbrev pub reset_in_a_data_phase_due_shown : Shows
reset_in_a_data_phase_due_shown = record { rows = reverse reset_in_a_data_phase_due_rows; history = reverse reset_in_a_data_phase_due_events; ended = true }

-- ---- reset_in_a_reselection_due

abbrev pub reset_in_a_reselection_due : ScenarioValue
reset_in_a_reselection_due = record {
  version = 1;
  hosts = record { dev = 7; latency = 4; most = 1; retries = 2; period = 0; offset = 0; lag = 0; offers = true } ∷ [];
  targets = record { dev = 2; latency = 16; retries = 2; disc = policies.Command; pick = picks.First; seek = 4000; period = 0; offset = 0; begins = false } ∷ [];
  units = record { target = 2; unit = 0; blocks = 1; size = 16; depth = 1 } ∷ [];
  fills = [];
  tapes = [];
  loads = [];
  commands = record { host = 7; target = 2; unit = 0; at = 0; tag = tags.Untagged; cdb = (0 ∷ 0 ∷ 0 ∷ 0 ∷ 0 ∷ 0 ∷ []); payload = payloads.Nothing } ∷ [];
  aborts = [];
  resets = record { dev = 7; at = 15000 } ∷ [];
  faults = [];
}

abbrev pub reset_in_a_reselection_due_rows : List Row
reset_in_a_reselection_due_rows = drive 1204 7 0x00280 ∷ drive 3608 7 0x00680 ∷ drive 4812 7 0x10784 ∷ drive 4906 7 0x10584 ∷ drive 5322 2 0x00200 ∷ drive 5416 7 0x10000 ∷ drive 5432 2 0x02a00 ∷ drive 5848 2 0x06a00 ∷ drive 5852 7 0x001c0 ∷ drive 5946 7 0x081c0 ∷ drive 5962 2 0x02a00 ∷ drive 5966 7 0x00000 ∷ drive 5982 2 0x00a00 ∷ drive 6398 2 0x04a00 ∷ drive 6402 7 0x00100 ∷ drive 6461 7 0x08100 ∷ drive 6477 2 0x00a00 ∷ drive 6481 7 0x00000 ∷ drive 6497 2 0x04a00 ∷ drive 6501 7 0x00100 ∷ drive 6560 7 0x08100 ∷ drive 6576 2 0x00a00 ∷ drive 6580 7 0x00000 ∷ drive 6596 2 0x04a00 ∷ drive 6600 7 0x00100 ∷ drive 6659 7 0x08100 ∷ drive 6675 2 0x00a00 ∷ drive 6679 7 0x00000 ∷ drive 6695 2 0x04a00 ∷ drive 6699 7 0x00100 ∷ drive 6758 7 0x08100 ∷ drive 6774 2 0x00a00 ∷ drive 6778 7 0x00000 ∷ drive 6794 2 0x04a00 ∷ drive 6798 7 0x00100 ∷ drive 6857 7 0x08100 ∷ drive 6873 2 0x00a00 ∷ drive 6877 7 0x00000 ∷ drive 6893 2 0x04a00 ∷ drive 6897 7 0x00100 ∷ drive 6956 7 0x08100 ∷ drive 6972 2 0x00a00 ∷ drive 6976 7 0x00000 ∷ drive 6992 2 0x03a00 ∷ drive 7808 2 0x03a04 ∷ drive 7879 2 0x07a04 ∷ drive 7883 7 0x08000 ∷ drive 7899 2 0x03a00 ∷ drive 7903 7 0x00000 ∷ drive 7919 2 0x00000 ∷ drive 11008 2 0x00204 ∷ drive 13424 2 0x00604 ∷ drive 14640 2 0x01784 ∷ drive 14746 2 0x01584 ∷ drive 15000 7 0x20000 ∷ drive 15016 2 0x00000 ∷ drive 40004 7 0x00000 ∷ []

abbrev reset_in_a_reselection_due_events : List Event
reset_in_a_reselection_due_events = events.Accept (command 1) ∷ events.Reset 7 ∷ []

abbrev pub reset_in_a_reselection_due_shown : Shows
reset_in_a_reselection_due_shown = record { rows = reverse reset_in_a_reselection_due_rows; history = reverse reset_in_a_reselection_due_events; ended = true }

-- ---- reset_in_a_selection_due

abbrev pub reset_in_a_selection_due : ScenarioValue
reset_in_a_selection_due = record {
  version = 1;
  hosts = record { dev = 5; latency = 12; most = 1; retries = 2; period = 0; offset = 0; lag = 0; offers = true } ∷ [];
  targets = record { dev = 4; latency = 77; retries = 2; disc = policies.Never; pick = picks.First; seek = 0; period = 0; offset = 0; begins = false } ∷ [];
  units = record { target = 4; unit = 0; blocks = 1; size = 16; depth = 1 } ∷ [];
  fills = [];
  tapes = [];
  loads = [];
  commands = record { host = 5; target = 4; unit = 0; at = 0; tag = tags.Untagged; cdb = (0 ∷ 0 ∷ 0 ∷ 0 ∷ 0 ∷ 0 ∷ []); payload = payloads.Nothing } ∷ record { host = 5; target = 4; unit = 0; at = 20000; tag = tags.Untagged; cdb = (0 ∷ 0 ∷ 0 ∷ 0 ∷ 0 ∷ 0 ∷ []); payload = payloads.Nothing } ∷ [];
  aborts = [];
  resets = record { dev = 4; at = 4890 } ∷ [];
  faults = [];
}

abbrev pub reset_in_a_selection_due_rows : List Row
reset_in_a_selection_due_rows = drive 1212 5 0x00220 ∷ drive 3624 5 0x00620 ∷ drive 4836 5 0x10730 ∷ drive 4890 4 0x20000 ∷ drive 4902 5 0x00000 ∷ drive 29967 4 0x00000 ∷ drive 31179 5 0x00220 ∷ drive 33591 5 0x00620 ∷ drive 34803 5 0x10730 ∷ drive 34905 5 0x10530 ∷ drive 35382 4 0x00200 ∷ drive 35484 5 0x10000 ∷ drive 35561 4 0x02a00 ∷ drive 36038 4 0x06a00 ∷ drive 36050 5 0x001c0 ∷ drive 36152 5 0x081c0 ∷ drive 36229 4 0x02a00 ∷ drive 36241 5 0x00000 ∷ drive 36318 4 0x00a00 ∷ drive 36795 4 0x04a00 ∷ drive 36807 5 0x00100 ∷ drive 36874 5 0x08100 ∷ drive 36951 4 0x00a00 ∷ drive 36963 5 0x00000 ∷ drive 37040 4 0x04a00 ∷ drive 37052 5 0x00100 ∷ drive 37119 5 0x08100 ∷ drive 37196 4 0x00a00 ∷ drive 37208 5 0x00000 ∷ drive 37285 4 0x04a00 ∷ drive 37297 5 0x00100 ∷ drive 37364 5 0x08100 ∷ drive 37441 4 0x00a00 ∷ drive 37453 5 0x00000 ∷ drive 37530 4 0x04a00 ∷ drive 37542 5 0x00100 ∷ drive 37609 5 0x08100 ∷ drive 37686 4 0x00a00 ∷ drive 37698 5 0x00000 ∷ drive 37775 4 0x04a00 ∷ drive 37787 5 0x00100 ∷ drive 37854 5 0x08100 ∷ drive 37931 4 0x00a00 ∷ drive 37943 5 0x00000 ∷ drive 38020 4 0x04a00 ∷ drive 38032 5 0x00100 ∷ drive 38099 5 0x08100 ∷ drive 38176 4 0x00a00 ∷ drive 38188 5 0x00000 ∷ drive 38265 4 0x01a00 ∷ drive 39142 4 0x01a02 ∷ drive 39274 4 0x05a02 ∷ drive 39286 5 0x08000 ∷ drive 39363 4 0x01a00 ∷ drive 39375 5 0x00000 ∷ drive 39452 4 0x03b00 ∷ drive 39929 4 0x07b00 ∷ drive 39941 5 0x08000 ∷ drive 40018 4 0x03a00 ∷ drive 40030 5 0x00000 ∷ drive 40107 4 0x00000 ∷ drive 41319 5 0x00220 ∷ drive 43731 5 0x00620 ∷ drive 44943 5 0x10730 ∷ drive 45045 5 0x10530 ∷ drive 45522 4 0x00200 ∷ drive 45624 5 0x10000 ∷ drive 45701 4 0x02a00 ∷ drive 46178 4 0x06a00 ∷ drive 46190 5 0x00080 ∷ drive 46292 5 0x08080 ∷ drive 46369 4 0x02a00 ∷ drive 46381 5 0x00000 ∷ drive 46458 4 0x00a00 ∷ drive 46935 4 0x04a00 ∷ drive 46947 5 0x00103 ∷ drive 47014 5 0x08103 ∷ drive 47091 4 0x00a00 ∷ drive 47103 5 0x00000 ∷ drive 47180 4 0x04a00 ∷ drive 47192 5 0x00100 ∷ drive 47259 5 0x08100 ∷ drive 47336 4 0x00a00 ∷ drive 47348 5 0x00000 ∷ drive 47425 4 0x04a00 ∷ drive 47437 5 0x00100 ∷ drive 47504 5 0x08100 ∷ drive 47581 4 0x00a00 ∷ drive 47593 5 0x00000 ∷ drive 47670 4 0x04a00 ∷ drive 47682 5 0x00100 ∷ drive 47749 5 0x08100 ∷ drive 47826 4 0x00a00 ∷ drive 47838 5 0x00000 ∷ drive 47915 4 0x04a00 ∷ drive 47927 5 0x00112 ∷ drive 47994 5 0x08112 ∷ drive 48071 4 0x00a00 ∷ drive 48083 5 0x00000 ∷ drive 48160 4 0x04a00 ∷ drive 48172 5 0x00100 ∷ drive 48239 5 0x08100 ∷ drive 48316 4 0x00a00 ∷ drive 48328 5 0x00000 ∷ drive 48405 4 0x01200 ∷ drive 49282 4 0x01270 ∷ drive 49414 4 0x05270 ∷ drive 49426 5 0x08000 ∷ drive 49503 4 0x01300 ∷ drive 49515 5 0x00000 ∷ drive 49635 4 0x05300 ∷ drive 49647 5 0x08000 ∷ drive 49724 4 0x01306 ∷ drive 49736 5 0x00000 ∷ drive 49856 4 0x05306 ∷ drive 49868 5 0x08000 ∷ drive 49945 4 0x01300 ∷ drive 49957 5 0x00000 ∷ drive 50077 4 0x05300 ∷ drive 50089 5 0x08000 ∷ drive 50166 4 0x01300 ∷ drive 50178 5 0x00000 ∷ drive 50298 4 0x05300 ∷ drive 50310 5 0x08000 ∷ drive 50387 4 0x01300 ∷ drive 50399 5 0x00000 ∷ drive 50519 4 0x05300 ∷ drive 50531 5 0x08000 ∷ drive 50608 4 0x01300 ∷ drive 50620 5 0x00000 ∷ drive 50740 4 0x05300 ∷ drive 50752 5 0x08000 ∷ drive 50829 4 0x0130a ∷ drive 50841 5 0x00000 ∷ drive 50961 4 0x0530a ∷ drive 50973 5 0x08000 ∷ drive 51050 4 0x01300 ∷ drive 51062 5 0x00000 ∷ drive 51182 4 0x05300 ∷ drive 51194 5 0x08000 ∷ drive 51271 4 0x01300 ∷ drive 51283 5 0x00000 ∷ drive 51403 4 0x05300 ∷ drive 51415 5 0x08000 ∷ drive 51492 4 0x01300 ∷ drive 51504 5 0x00000 ∷ drive 51624 4 0x05300 ∷ drive 51636 5 0x08000 ∷ drive 51713 4 0x01300 ∷ drive 51725 5 0x00000 ∷ drive 51845 4 0x05300 ∷ drive 51857 5 0x08000 ∷ drive 51934 4 0x01229 ∷ drive 51946 5 0x00000 ∷ drive 52066 4 0x05229 ∷ drive 52078 5 0x08000 ∷ drive 52155 4 0x01300 ∷ drive 52167 5 0x00000 ∷ drive 52287 4 0x05300 ∷ drive 52299 5 0x08000 ∷ drive 52376 4 0x01300 ∷ drive 52388 5 0x00000 ∷ drive 52508 4 0x05300 ∷ drive 52520 5 0x08000 ∷ drive 52597 4 0x01300 ∷ drive 52609 5 0x00000 ∷ drive 52729 4 0x05300 ∷ drive 52741 5 0x08000 ∷ drive 52818 4 0x01300 ∷ drive 52830 5 0x00000 ∷ drive 52950 4 0x05300 ∷ drive 52962 5 0x08000 ∷ drive 53039 4 0x01300 ∷ drive 53051 5 0x00000 ∷ drive 53171 4 0x05300 ∷ drive 53183 5 0x08000 ∷ drive 53260 4 0x01200 ∷ drive 53272 5 0x00000 ∷ drive 53349 4 0x01b00 ∷ drive 53826 4 0x05b00 ∷ drive 53838 5 0x08000 ∷ drive 53915 4 0x01a00 ∷ drive 53927 5 0x00000 ∷ drive 54004 4 0x03b00 ∷ drive 54481 4 0x07b00 ∷ drive 54493 5 0x08000 ∷ drive 54570 4 0x03a00 ∷ drive 54582 5 0x00000 ∷ drive 54659 4 0x00000 ∷ drive 55871 5 0x00220 ∷ drive 58283 5 0x00620 ∷ drive 59495 5 0x10730 ∷ drive 59597 5 0x10530 ∷ drive 60074 4 0x00200 ∷ drive 60176 5 0x10000 ∷ drive 60253 4 0x02a00 ∷ drive 60730 4 0x06a00 ∷ drive 60742 5 0x001c0 ∷ drive 60844 5 0x081c0 ∷ drive 60921 4 0x02a00 ∷ drive 60933 5 0x00000 ∷ drive 61010 4 0x00a00 ∷ drive 61487 4 0x04a00 ∷ drive 61499 5 0x00100 ∷ drive 61566 5 0x08100 ∷ drive 61643 4 0x00a00 ∷ drive 61655 5 0x00000 ∷ drive 61732 4 0x04a00 ∷ drive 61744 5 0x00100 ∷ drive 61811 5 0x08100 ∷ drive 61888 4 0x00a00 ∷ drive 61900 5 0x00000 ∷ drive 61977 4 0x04a00 ∷ drive 61989 5 0x00100 ∷ drive 62056 5 0x08100 ∷ drive 62133 4 0x00a00 ∷ drive 62145 5 0x00000 ∷ drive 62222 4 0x04a00 ∷ drive 62234 5 0x00100 ∷ drive 62301 5 0x08100 ∷ drive 62378 4 0x00a00 ∷ drive 62390 5 0x00000 ∷ drive 62467 4 0x04a00 ∷ drive 62479 5 0x00100 ∷ drive 62546 5 0x08100 ∷ drive 62623 4 0x00a00 ∷ drive 62635 5 0x00000 ∷ drive 62712 4 0x04a00 ∷ drive 62724 5 0x00100 ∷ drive 62791 5 0x08100 ∷ drive 62868 4 0x00a00 ∷ drive 62880 5 0x00000 ∷ drive 62957 4 0x01a00 ∷ drive 63834 4 0x01b00 ∷ drive 63966 4 0x05b00 ∷ drive 63978 5 0x08000 ∷ drive 64055 4 0x01a00 ∷ drive 64067 5 0x00000 ∷ drive 64144 4 0x03b00 ∷ drive 64621 4 0x07b00 ∷ drive 64633 5 0x08000 ∷ drive 64710 4 0x03a00 ∷ drive 64722 5 0x00000 ∷ drive 64799 4 0x00000 ∷ []

abbrev reset_in_a_selection_due_events : List Event
reset_in_a_selection_due_events = events.Reset 4 ∷ events.Accept (command 1) ∷ events.Run (command 1) ∷ events.End (command 1) 2 ∷ events.Accept (sense 1) ∷ events.Run (sense 1) ∷ events.End (sense 1) 0 ∷ events.Accept (command 2) ∷ events.Run (command 2) ∷ events.End (command 2) 0 ∷ []

abbrev pub reset_in_a_selection_due_shown : Shows
reset_in_a_selection_due_shown = record { rows = reverse reset_in_a_selection_due_rows; history = reverse reset_in_a_selection_due_events; ended = true }

-- ---- resets_dropped_due

abbrev pub resets_dropped_due : ScenarioValue
resets_dropped_due = record {
  version = 1;
  hosts = record { dev = 7; latency = 40; most = 1; retries = 2; period = 50; offset = 8; lag = 0; offers = true } ∷ [];
  targets = record { dev = 1; latency = 5; retries = 2; disc = policies.Never; pick = picks.First; seek = 0; period = 50; offset = 8; begins = false } ∷ [];
  units = record { target = 1; unit = 0; blocks = 1; size = 16; depth = 1 } ∷ [];
  fills = [];
  tapes = [];
  loads = [];
  commands = record { host = 7; target = 1; unit = 0; at = 0; tag = tags.Untagged; cdb = (0 ∷ 0 ∷ 0 ∷ 0 ∷ 0 ∷ 0 ∷ []); payload = payloads.Nothing } ∷ [];
  aborts = [];
  resets = record { dev = 1; at = 7000 } ∷ record { dev = 1; at = 32005 } ∷ record { dev = 7; at = 20000 } ∷ record { dev = 1; at = 30000 } ∷ [];
  faults = [];
}

abbrev pub resets_dropped_due_rows : List Row
resets_dropped_due_rows = drive 1240 7 0x00280 ∷ drive 3680 7 0x00680 ∷ drive 4920 7 0x10782 ∷ drive 5050 7 0x10582 ∷ drive 5455 1 0x00200 ∷ drive 5585 7 0x10000 ∷ drive 5590 1 0x02a00 ∷ drive 5995 1 0x06a00 ∷ drive 6035 7 0x101c0 ∷ drive 6130 7 0x181c0 ∷ drive 6135 1 0x02a00 ∷ drive 6175 7 0x10000 ∷ drive 6180 1 0x06a00 ∷ drive 6220 7 0x10001 ∷ drive 6315 7 0x18001 ∷ drive 6320 1 0x02a00 ∷ drive 6360 7 0x10000 ∷ drive 6365 1 0x06a00 ∷ drive 6405 7 0x10103 ∷ drive 6500 7 0x18103 ∷ drive 6505 1 0x02a00 ∷ drive 6545 7 0x10000 ∷ drive 6550 1 0x06a00 ∷ drive 6590 7 0x10001 ∷ drive 6685 7 0x18001 ∷ drive 6690 1 0x02a00 ∷ drive 6730 7 0x10000 ∷ drive 6735 1 0x06a00 ∷ drive 6775 7 0x10032 ∷ drive 6870 7 0x18032 ∷ drive 6875 1 0x02a00 ∷ drive 6915 7 0x10000 ∷ drive 6920 1 0x06a00 ∷ drive 6960 7 0x00008 ∷ drive 7000 1 0x20000 ∷ drive 7040 7 0x00000 ∷ drive 20000 7 0x20000 ∷ drive 32005 1 0x00000 ∷ drive 45040 7 0x00000 ∷ []

abbrev resets_dropped_due_events : List Event
resets_dropped_due_events = events.Reset 1 ∷ events.Reset 7 ∷ []

abbrev pub resets_dropped_due_shown : Shows
resets_dropped_due_shown = record { rows = reverse resets_dropped_due_rows; history = reverse resets_dropped_due_events; ended = true }

-- ---- selected_id_struck_due

abbrev pub selected_id_struck_due : ScenarioValue
selected_id_struck_due = record {
  version = 1;
  hosts = record { dev = 7; latency = 18; most = 1; retries = 1; period = 0; offset = 0; lag = 0; offers = true } ∷ [];
  targets = record { dev = 0; latency = 26; retries = 2; disc = policies.Never; pick = picks.First; seek = 0; period = 0; offset = 0; begins = false } ∷ [];
  units = record { target = 0; unit = 0; blocks = 1; size = 16; depth = 1 } ∷ [];
  fills = [];
  tapes = [];
  loads = [];
  commands = record { host = 7; target = 0; unit = 0; at = 0; tag = tags.Untagged; cdb = (0 ∷ 0 ∷ 0 ∷ 0 ∷ 0 ∷ 0 ∷ []); payload = payloads.Nothing } ∷ [];
  aborts = [];
  resets = [];
  faults = record { at = 5388; bit = 0 } ∷ [];
}

abbrev pub selected_id_struck_due_rows : List Row
selected_id_struck_due_rows = drive 1218 7 0x00280 ∷ drive 3636 7 0x00680 ∷ drive 4854 7 0x10781 ∷ drive 4962 7 0x10581 ∷ strike 5388 0 0 ∷ drive 250004980 7 0x10400 ∷ drive 250205088 7 0x00000 ∷ drive 250206306 7 0x00280 ∷ drive 250208724 7 0x00680 ∷ drive 250209942 7 0x10781 ∷ drive 250210050 7 0x10581 ∷ drive 250210476 0 0x00200 ∷ drive 250210584 7 0x10000 ∷ drive 250210610 0 0x02a00 ∷ drive 250211036 0 0x06a00 ∷ drive 250211054 7 0x001c0 ∷ drive 250211162 7 0x081c0 ∷ drive 250211188 0 0x02a00 ∷ drive 250211206 7 0x00000 ∷ drive 250211232 0 0x00a00 ∷ drive 250211658 0 0x04a00 ∷ drive 250211676 7 0x00100 ∷ drive 250211749 7 0x08100 ∷ drive 250211775 0 0x00a00 ∷ drive 250211793 7 0x00000 ∷ drive 250211819 0 0x04a00 ∷ drive 250211837 7 0x00100 ∷ drive 250211910 7 0x08100 ∷ drive 250211936 0 0x00a00 ∷ drive 250211954 7 0x00000 ∷ drive 250211980 0 0x04a00 ∷ drive 250211998 7 0x00100 ∷ drive 250212071 7 0x08100 ∷ drive 250212097 0 0x00a00 ∷ drive 250212115 7 0x00000 ∷ drive 250212141 0 0x04a00 ∷ drive 250212159 7 0x00100 ∷ drive 250212232 7 0x08100 ∷ drive 250212258 0 0x00a00 ∷ drive 250212276 7 0x00000 ∷ drive 250212302 0 0x04a00 ∷ drive 250212320 7 0x00100 ∷ drive 250212393 7 0x08100 ∷ drive 250212419 0 0x00a00 ∷ drive 250212437 7 0x00000 ∷ drive 250212463 0 0x04a00 ∷ drive 250212481 7 0x00100 ∷ drive 250212554 7 0x08100 ∷ drive 250212580 0 0x00a00 ∷ drive 250212598 7 0x00000 ∷ drive 250212624 0 0x01a00 ∷ drive 250213450 0 0x01b00 ∷ drive 250213531 0 0x05b00 ∷ drive 250213549 7 0x08000 ∷ drive 250213575 0 0x01a00 ∷ drive 250213593 7 0x00000 ∷ drive 250213619 0 0x03b00 ∷ drive 250214045 0 0x07b00 ∷ drive 250214063 7 0x08000 ∷ drive 250214089 0 0x03a00 ∷ drive 250214107 7 0x00000 ∷ drive 250214133 0 0x00000 ∷ []

abbrev selected_id_struck_due_events : List Event
selected_id_struck_due_events = events.Accept (command 1) ∷ events.Run (command 1) ∷ events.End (command 1) 0 ∷ []

abbrev pub selected_id_struck_due_shown : Shows
selected_id_struck_due_shown = record { rows = reverse selected_id_struck_due_rows; history = reverse selected_id_struck_due_events; ended = true }

-- ---- status_given_up_due

abbrev pub status_given_up_due : ScenarioValue
status_given_up_due = record {
  version = 1;
  hosts = record { dev = 6; latency = 10; most = 1; retries = 2; period = 0; offset = 0; lag = 0; offers = true } ∷ [];
  targets = record { dev = 0; latency = 90; retries = 1; disc = policies.Never; pick = picks.First; seek = 0; period = 0; offset = 0; begins = false } ∷ [];
  units = record { target = 0; unit = 0; blocks = 1; size = 16; depth = 1 } ∷ [];
  fills = [];
  tapes = [];
  loads = [];
  commands = record { host = 6; target = 0; unit = 0; at = 0; tag = tags.Untagged; cdb = (0 ∷ 0 ∷ 0 ∷ 0 ∷ 0 ∷ 0 ∷ []); payload = payloads.Nothing } ∷ [];
  aborts = [];
  resets = [];
  faults = record { at = 9515; bit = 1 } ∷ record { at = 12230; bit = 2 } ∷ [];
}

abbrev pub status_given_up_due_rows : List Row
status_given_up_due_rows = drive 1210 6 0x00240 ∷ drive 3620 6 0x00640 ∷ drive 4830 6 0x10741 ∷ drive 4930 6 0x10541 ∷ drive 5420 0 0x00200 ∷ drive 5520 6 0x10000 ∷ drive 5610 0 0x02a00 ∷ drive 6100 0 0x06a00 ∷ drive 6110 6 0x001c0 ∷ drive 6210 6 0x081c0 ∷ drive 6300 0 0x02a00 ∷ drive 6310 6 0x00000 ∷ drive 6400 0 0x00a00 ∷ drive 6890 0 0x04a00 ∷ drive 6900 6 0x00100 ∷ drive 6965 6 0x08100 ∷ drive 7055 0 0x00a00 ∷ drive 7065 6 0x00000 ∷ drive 7155 0 0x04a00 ∷ drive 7165 6 0x00100 ∷ drive 7230 6 0x08100 ∷ drive 7320 0 0x00a00 ∷ drive 7330 6 0x00000 ∷ drive 7420 0 0x04a00 ∷ drive 7430 6 0x00100 ∷ drive 7495 6 0x08100 ∷ drive 7585 0 0x00a00 ∷ drive 7595 6 0x00000 ∷ drive 7685 0 0x04a00 ∷ drive 7695 6 0x00100 ∷ drive 7760 6 0x08100 ∷ drive 7850 0 0x00a00 ∷ drive 7860 6 0x00000 ∷ drive 7950 0 0x04a00 ∷ drive 7960 6 0x00100 ∷ drive 8025 6 0x08100 ∷ drive 8115 0 0x00a00 ∷ drive 8125 6 0x00000 ∷ drive 8215 0 0x04a00 ∷ drive 8225 6 0x00100 ∷ drive 8290 6 0x08100 ∷ drive 8380 0 0x00a00 ∷ drive 8390 6 0x00000 ∷ drive 8480 0 0x01a00 ∷ drive 9370 0 0x01b00 ∷ drive 9515 0 0x05b00 ∷ strike 9515 6 1 ∷ drive 9525 6 0x18000 ∷ drive 9615 0 0x01a00 ∷ drive 9625 6 0x10000 ∷ drive 9715 0 0x02a00 ∷ drive 10205 0 0x06a00 ∷ drive 10215 6 0x00105 ∷ drive 10315 6 0x08105 ∷ drive 10405 0 0x02a00 ∷ drive 10415 6 0x00000 ∷ drive 10505 0 0x03a00 ∷ drive 11395 0 0x03b03 ∷ drive 11540 0 0x07b03 ∷ drive 11550 6 0x08000 ∷ drive 11640 0 0x03a00 ∷ drive 11650 6 0x00000 ∷ drive 11740 0 0x01b00 ∷ drive 12230 0 0x05b00 ∷ strike 12230 6 2 ∷ drive 12240 6 0x18000 ∷ drive 12330 0 0x01a00 ∷ drive 12340 6 0x10000 ∷ drive 12430 0 0x02a00 ∷ drive 12920 0 0x06a00 ∷ drive 12930 6 0x00105 ∷ drive 13030 6 0x08105 ∷ drive 13120 0 0x02a00 ∷ drive 13130 6 0x00000 ∷ drive 13220 0 0x00000 ∷ []

abbrev status_given_up_due_events : List Event
status_given_up_due_events = events.Accept (command 1) ∷ events.Run (command 1) ∷ events.Lost (command 1) ∷ []

abbrev pub status_given_up_due_shown : Shows
status_given_up_due_shown = record { rows = reverse status_given_up_due_rows; history = reverse status_given_up_due_events; ended = true }

-- ---- status_struck_due

abbrev pub status_struck_due : ScenarioValue
status_struck_due = record {
  version = 1;
  hosts = record { dev = 4; latency = 95; most = 1; retries = 2; period = 0; offset = 0; lag = 0; offers = true } ∷ [];
  targets = record { dev = 5; latency = 0; retries = 2; disc = policies.Never; pick = picks.First; seek = 300; period = 0; offset = 0; begins = false } ∷ [];
  units = record { target = 5; unit = 0; blocks = 1; size = 16; depth = 1 } ∷ [];
  fills = [];
  tapes = [];
  loads = [];
  commands = record { host = 4; target = 5; unit = 0; at = 0; tag = tags.Untagged; cdb = (0 ∷ 0 ∷ 0 ∷ 0 ∷ 0 ∷ 0 ∷ []); payload = payloads.Nothing } ∷ [];
  aborts = [];
  resets = [];
  faults = record { at = 10225; bit = 4 } ∷ [];
}

abbrev pub status_struck_due_rows : List Row
status_struck_due_rows = drive 1295 4 0x00210 ∷ drive 3790 4 0x00610 ∷ drive 5085 4 0x10730 ∷ drive 5270 4 0x10530 ∷ drive 5670 5 0x00200 ∷ drive 5855 4 0x10000 ∷ drive 5855 5 0x02a00 ∷ drive 6255 5 0x06a00 ∷ drive 6350 4 0x001c0 ∷ drive 6535 4 0x081c0 ∷ drive 6535 5 0x02a00 ∷ drive 6630 4 0x00000 ∷ drive 6630 5 0x00a00 ∷ drive 7030 5 0x04a00 ∷ drive 7125 4 0x00100 ∷ drive 7275 4 0x08100 ∷ drive 7275 5 0x00a00 ∷ drive 7370 4 0x00000 ∷ drive 7370 5 0x04a00 ∷ drive 7465 4 0x00100 ∷ drive 7615 4 0x08100 ∷ drive 7615 5 0x00a00 ∷ drive 7710 4 0x00000 ∷ drive 7710 5 0x04a00 ∷ drive 7805 4 0x00100 ∷ drive 7955 4 0x08100 ∷ drive 7955 5 0x00a00 ∷ drive 8050 4 0x00000 ∷ drive 8050 5 0x04a00 ∷ drive 8145 4 0x00100 ∷ drive 8295 4 0x08100 ∷ drive 8295 5 0x00a00 ∷ drive 8390 4 0x00000 ∷ drive 8390 5 0x04a00 ∷ drive 8485 4 0x00100 ∷ drive 8635 4 0x08100 ∷ drive 8635 5 0x00a00 ∷ drive 8730 4 0x00000 ∷ drive 8730 5 0x04a00 ∷ drive 8825 4 0x00100 ∷ drive 8975 4 0x08100 ∷ drive 8975 5 0x00a00 ∷ drive 9070 4 0x00000 ∷ drive 9370 5 0x01a00 ∷ drive 10170 5 0x01b00 ∷ drive 10225 5 0x05b00 ∷ strike 10225 4 4 ∷ drive 10320 4 0x18000 ∷ drive 10320 5 0x01a00 ∷ drive 10505 4 0x10000 ∷ drive 10505 5 0x02a00 ∷ drive 10905 5 0x06a00 ∷ drive 11000 4 0x00105 ∷ drive 11185 4 0x08105 ∷ drive 11185 5 0x02a00 ∷ drive 11280 4 0x00000 ∷ drive 11280 5 0x03a00 ∷ drive 12080 5 0x03b03 ∷ drive 12135 5 0x07b03 ∷ drive 12230 4 0x08000 ∷ drive 12230 5 0x03a00 ∷ drive 12325 4 0x00000 ∷ drive 12325 5 0x01b00 ∷ drive 12725 5 0x05b00 ∷ drive 12820 4 0x08000 ∷ drive 12820 5 0x01a00 ∷ drive 12915 4 0x00000 ∷ drive 12915 5 0x03b00 ∷ drive 13315 5 0x07b00 ∷ drive 13410 4 0x08000 ∷ drive 13410 5 0x03a00 ∷ drive 13505 4 0x00000 ∷ drive 13505 5 0x00000 ∷ []

abbrev status_struck_due_events : List Event
status_struck_due_events = events.Accept (command 1) ∷ events.Run (command 1) ∷ events.End (command 1) 0 ∷ []

abbrev pub status_struck_due_shown : Shows
status_struck_due_shown = record { rows = reverse status_struck_due_rows; history = reverse status_struck_due_events; ended = true }

-- ---- struck_names_due

abbrev pub struck_names_due : ScenarioValue
struck_names_due = record {
  version = 1;
  hosts = record { dev = 7; latency = 0; most = 1; retries = 2; period = 0; offset = 0; lag = 0; offers = true } ∷ [];
  targets = record { dev = 0; latency = 10; retries = 0; disc = policies.Command; pick = picks.First; seek = 700; period = 0; offset = 0; begins = false } ∷ [];
  units = record { target = 0; unit = 3; blocks = 1; size = 16; depth = 1 } ∷ [];
  fills = [];
  tapes = [];
  loads = [];
  commands = record { host = 7; target = 0; unit = 3; at = 0; tag = tags.Simple 9; cdb = (8 ∷ 0 ∷ 0 ∷ 1 ∷ 1 ∷ 0 ∷ []); payload = payloads.Nothing } ∷ [];
  aborts = [];
  resets = [];
  faults = record { at = 13675; bit = 3 } ∷ record { at = 15245; bit = 0 } ∷ record { at = 16815; bit = 8 } ∷ record { at = 25725; bit = 1 } ∷ record { at = 28600; bit = 7 } ∷ [];
}

abbrev pub struck_names_due_rows : List Row
struck_names_due_rows = drive 1200 7 0x00280 ∷ drive 3600 7 0x00680 ∷ drive 4800 7 0x10781 ∷ drive 4890 7 0x10581 ∷ drive 5300 0 0x00200 ∷ drive 5390 7 0x10000 ∷ drive 5400 0 0x02a00 ∷ drive 5810 0 0x06a00 ∷ drive 5810 7 0x101c3 ∷ drive 5865 7 0x181c3 ∷ drive 5875 0 0x02a00 ∷ drive 5875 7 0x10000 ∷ drive 5885 0 0x06a00 ∷ drive 5885 7 0x10020 ∷ drive 5940 7 0x18020 ∷ drive 5950 0 0x02a00 ∷ drive 5950 7 0x10000 ∷ drive 5960 0 0x06a00 ∷ drive 5960 7 0x00109 ∷ drive 6050 7 0x08109 ∷ drive 6060 0 0x02a00 ∷ drive 6060 7 0x00000 ∷ drive 6070 0 0x00a00 ∷ drive 6480 0 0x04a00 ∷ drive 6480 7 0x00008 ∷ drive 6535 7 0x08008 ∷ drive 6545 0 0x00a00 ∷ drive 6545 7 0x00000 ∷ drive 6555 0 0x04a00 ∷ drive 6555 7 0x00100 ∷ drive 6610 7 0x08100 ∷ drive 6620 0 0x00a00 ∷ drive 6620 7 0x00000 ∷ drive 6630 0 0x04a00 ∷ drive 6630 7 0x00100 ∷ drive 6685 7 0x08100 ∷ drive 6695 0 0x00a00 ∷ drive 6695 7 0x00000 ∷ drive 6705 0 0x04a00 ∷ drive 6705 7 0x00001 ∷ drive 6760 7 0x08001 ∷ drive 6770 0 0x00a00 ∷ drive 6770 7 0x00000 ∷ drive 6780 0 0x04a00 ∷ drive 6780 7 0x00001 ∷ drive 6835 7 0x08001 ∷ drive 6845 0 0x00a00 ∷ drive 6845 7 0x00000 ∷ drive 6855 0 0x04a00 ∷ drive 6855 7 0x00100 ∷ drive 6910 7 0x08100 ∷ drive 6920 0 0x00a00 ∷ drive 6920 7 0x00000 ∷ drive 6930 0 0x03a00 ∷ drive 7740 0 0x03a04 ∷ drive 7805 0 0x07a04 ∷ drive 7805 7 0x08000 ∷ drive 7815 0 0x03a00 ∷ drive 7815 7 0x00000 ∷ drive 7825 0 0x00000 ∷ drive 9035 0 0x00201 ∷ drive 11445 0 0x00601 ∷ drive 12655 0 0x01781 ∷ drive 12755 0 0x01581 ∷ drive 13155 7 0x00200 ∷ drive 13165 0 0x01781 ∷ drive 13265 0 0x03a83 ∷ drive 13265 7 0x00000 ∷ drive 13675 0 0x07a83 ∷ strike 13675 7 3 ∷ drive 13675 7 0x18000 ∷ drive 13685 0 0x03a00 ∷ drive 13765 7 0x10000 ∷ drive 13775 0 0x02a00 ∷ drive 14185 0 0x06a00 ∷ drive 14185 7 0x00109 ∷ drive 14275 7 0x08109 ∷ drive 14285 0 0x02a00 ∷ drive 14285 7 0x00000 ∷ drive 14295 0 0x03a00 ∷ drive 15105 0 0x03a83 ∷ drive 15170 0 0x07a83 ∷ drive 15170 7 0x08000 ∷ drive 15180 0 0x03a20 ∷ drive 15180 7 0x00000 ∷ drive 15245 0 0x07a20 ∷ strike 15245 7 0 ∷ drive 15245 7 0x18000 ∷ drive 15255 0 0x03a00 ∷ drive 15335 7 0x10000 ∷ drive 15345 0 0x02a00 ∷ drive 15755 0 0x06a00 ∷ drive 15755 7 0x00109 ∷ drive 15845 7 0x08109 ∷ drive 15855 0 0x02a00 ∷ drive 15855 7 0x00000 ∷ drive 15865 0 0x03a00 ∷ drive 16675 0 0x03a20 ∷ drive 16740 0 0x07a20 ∷ drive 16740 7 0x08000 ∷ drive 16750 0 0x03b09 ∷ drive 16750 7 0x00000 ∷ drive 16815 0 0x07b09 ∷ strike 16815 7 8 ∷ drive 16815 7 0x18000 ∷ drive 16825 0 0x03a00 ∷ drive 16905 7 0x10000 ∷ drive 16915 0 0x02a00 ∷ drive 17325 0 0x06a00 ∷ drive 17325 7 0x00109 ∷ drive 17415 7 0x08109 ∷ drive 17425 0 0x02a00 ∷ drive 17425 7 0x00000 ∷ drive 17435 0 0x03a00 ∷ drive 18245 0 0x03a20 ∷ drive 18310 0 0x07a20 ∷ drive 18310 7 0x08000 ∷ drive 18320 0 0x03b09 ∷ drive 18320 7 0x00000 ∷ drive 18385 0 0x07b09 ∷ drive 18385 7 0x08000 ∷ drive 18395 0 0x03a00 ∷ drive 18395 7 0x00000 ∷ drive 18405 0 0x01a02 ∷ drive 18815 0 0x05a02 ∷ drive 18815 7 0x08000 ∷ drive 18825 0 0x01a00 ∷ drive 18825 7 0x00000 ∷ drive 18835 0 0x03b00 ∷ drive 19245 0 0x07b00 ∷ drive 19245 7 0x08000 ∷ drive 19255 0 0x03a00 ∷ drive 19255 7 0x00000 ∷ drive 19265 0 0x00000 ∷ drive 20465 7 0x00280 ∷ drive 22865 7 0x00680 ∷ drive 24065 7 0x10781 ∷ drive 24155 7 0x10581 ∷ drive 24565 0 0x00200 ∷ drive 24655 7 0x10000 ∷ drive 24665 0 0x02a00 ∷ drive 25075 0 0x06a00 ∷ drive 25075 7 0x00083 ∷ drive 25165 7 0x08083 ∷ drive 25175 0 0x02a00 ∷ drive 25175 7 0x00000 ∷ drive 25185 0 0x00a00 ∷ drive 25595 0 0x04a00 ∷ drive 25595 7 0x00103 ∷ drive 25650 7 0x08103 ∷ drive 25660 0 0x00a00 ∷ drive 25660 7 0x00000 ∷ drive 25670 0 0x04a00 ∷ drive 25670 7 0x00100 ∷ drive 25725 7 0x08100 ∷ strike 25725 0 1 ∷ drive 25735 0 0x00a00 ∷ drive 25735 7 0x00000 ∷ drive 25745 0 0x03a00 ∷ drive 26555 0 0x03b03 ∷ drive 26620 0 0x07b03 ∷ drive 26620 7 0x08000 ∷ drive 26630 0 0x03a00 ∷ drive 26630 7 0x00000 ∷ drive 26640 0 0x00a00 ∷ drive 27050 0 0x04a00 ∷ drive 27050 7 0x00103 ∷ drive 27105 7 0x08103 ∷ drive 27115 0 0x00a00 ∷ drive 27115 7 0x00000 ∷ drive 27125 0 0x04a00 ∷ drive 27125 7 0x00100 ∷ drive 27180 7 0x08100 ∷ drive 27190 0 0x00a00 ∷ drive 27190 7 0x00000 ∷ drive 27200 0 0x04a00 ∷ drive 27200 7 0x00100 ∷ drive 27255 7 0x08100 ∷ drive 27265 0 0x00a00 ∷ drive 27265 7 0x00000 ∷ drive 27275 0 0x04a00 ∷ drive 27275 7 0x00100 ∷ drive 27330 7 0x08100 ∷ drive 27340 0 0x00a00 ∷ drive 27340 7 0x00000 ∷ drive 27350 0 0x04a00 ∷ drive 27350 7 0x00112 ∷ drive 27405 7 0x08112 ∷ drive 27415 0 0x00a00 ∷ drive 27415 7 0x00000 ∷ drive 27425 0 0x04a00 ∷ drive 27425 7 0x00100 ∷ drive 27480 7 0x08100 ∷ drive 27490 0 0x00a00 ∷ drive 27490 7 0x00000 ∷ drive 27500 0 0x01200 ∷ drive 28310 0 0x01270 ∷ drive 28375 0 0x05270 ∷ drive 28375 7 0x08000 ∷ drive 28385 0 0x01300 ∷ drive 28385 7 0x00000 ∷ drive 28450 0 0x05300 ∷ drive 28450 7 0x08000 ∷ drive 28460 0 0x01305 ∷ drive 28460 7 0x00000 ∷ drive 28525 0 0x05305 ∷ drive 28525 7 0x08000 ∷ drive 28535 0 0x01300 ∷ drive 28535 7 0x00000 ∷ drive 28600 0 0x05300 ∷ strike 28600 7 7 ∷ drive 28600 7 0x18000 ∷ drive 28610 0 0x01300 ∷ drive 28690 7 0x10000 ∷ drive 28700 0 0x05300 ∷ drive 28700 7 0x18000 ∷ drive 28710 0 0x01300 ∷ drive 28710 7 0x10000 ∷ drive 28775 0 0x05300 ∷ drive 28775 7 0x18000 ∷ drive 28785 0 0x01300 ∷ drive 28785 7 0x10000 ∷ drive 28850 0 0x05300 ∷ drive 28850 7 0x18000 ∷ drive 28860 0 0x0130a ∷ drive 28860 7 0x10000 ∷ drive 28925 0 0x0530a ∷ drive 28925 7 0x18000 ∷ drive 28935 0 0x01300 ∷ drive 28935 7 0x10000 ∷ drive 29000 0 0x05300 ∷ drive 29000 7 0x18000 ∷ drive 29010 0 0x01300 ∷ drive 29010 7 0x10000 ∷ drive 29075 0 0x05300 ∷ drive 29075 7 0x18000 ∷ drive 29085 0 0x01300 ∷ drive 29085 7 0x10000 ∷ drive 29150 0 0x05300 ∷ drive 29150 7 0x18000 ∷ drive 29160 0 0x01300 ∷ drive 29160 7 0x10000 ∷ drive 29225 0 0x05300 ∷ drive 29225 7 0x18000 ∷ drive 29235 0 0x01321 ∷ drive 29235 7 0x10000 ∷ drive 29300 0 0x05321 ∷ drive 29300 7 0x18000 ∷ drive 29310 0 0x01300 ∷ drive 29310 7 0x10000 ∷ drive 29375 0 0x05300 ∷ drive 29375 7 0x18000 ∷ drive 29385 0 0x01300 ∷ drive 29385 7 0x10000 ∷ drive 29450 0 0x05300 ∷ drive 29450 7 0x18000 ∷ drive 29460 0 0x01300 ∷ drive 29460 7 0x10000 ∷ drive 29525 0 0x05300 ∷ drive 29525 7 0x18000 ∷ drive 29535 0 0x01300 ∷ drive 29535 7 0x10000 ∷ drive 29600 0 0x05300 ∷ drive 29600 7 0x18000 ∷ drive 29610 0 0x01300 ∷ drive 29610 7 0x10000 ∷ drive 29675 0 0x05300 ∷ drive 29675 7 0x18000 ∷ drive 29685 0 0x01200 ∷ drive 29685 7 0x10000 ∷ drive 29695 0 0x02a00 ∷ drive 30105 0 0x06a00 ∷ drive 30105 7 0x00105 ∷ drive 30195 7 0x08105 ∷ drive 30205 0 0x02a00 ∷ drive 30205 7 0x00000 ∷ drive 30215 0 0x03a00 ∷ drive 31025 0 0x03b03 ∷ drive 31090 0 0x07b03 ∷ drive 31090 7 0x08000 ∷ drive 31100 0 0x03a00 ∷ drive 31100 7 0x00000 ∷ drive 31110 0 0x01270 ∷ drive 31520 0 0x05270 ∷ drive 31520 7 0x08000 ∷ drive 31530 0 0x01300 ∷ drive 31530 7 0x00000 ∷ drive 31595 0 0x05300 ∷ drive 31595 7 0x08000 ∷ drive 31605 0 0x01305 ∷ drive 31605 7 0x00000 ∷ drive 31670 0 0x05305 ∷ drive 31670 7 0x08000 ∷ drive 31680 0 0x01300 ∷ drive 31680 7 0x00000 ∷ drive 31745 0 0x05300 ∷ drive 31745 7 0x08000 ∷ drive 31755 0 0x01300 ∷ drive 31755 7 0x00000 ∷ drive 31820 0 0x05300 ∷ drive 31820 7 0x08000 ∷ drive 31830 0 0x01300 ∷ drive 31830 7 0x00000 ∷ drive 31895 0 0x05300 ∷ drive 31895 7 0x08000 ∷ drive 31905 0 0x01300 ∷ drive 31905 7 0x00000 ∷ drive 31970 0 0x05300 ∷ drive 31970 7 0x08000 ∷ drive 31980 0 0x0130a ∷ drive 31980 7 0x00000 ∷ drive 32045 0 0x0530a ∷ drive 32045 7 0x08000 ∷ drive 32055 0 0x01300 ∷ drive 32055 7 0x00000 ∷ drive 32120 0 0x05300 ∷ drive 32120 7 0x08000 ∷ drive 32130 0 0x01300 ∷ drive 32130 7 0x00000 ∷ drive 32195 0 0x05300 ∷ drive 32195 7 0x08000 ∷ drive 32205 0 0x01300 ∷ drive 32205 7 0x00000 ∷ drive 32270 0 0x05300 ∷ drive 32270 7 0x08000 ∷ drive 32280 0 0x01300 ∷ drive 32280 7 0x00000 ∷ drive 32345 0 0x05300 ∷ drive 32345 7 0x08000 ∷ drive 32355 0 0x01321 ∷ drive 32355 7 0x00000 ∷ drive 32420 0 0x05321 ∷ drive 32420 7 0x08000 ∷ drive 32430 0 0x01300 ∷ drive 32430 7 0x00000 ∷ drive 32495 0 0x05300 ∷ drive 32495 7 0x08000 ∷ drive 32505 0 0x01300 ∷ drive 32505 7 0x00000 ∷ drive 32570 0 0x05300 ∷ drive 32570 7 0x08000 ∷ drive 32580 0 0x01300 ∷ drive 32580 7 0x00000 ∷ drive 32645 0 0x05300 ∷ drive 32645 7 0x08000 ∷ drive 32655 0 0x01300 ∷ drive 32655 7 0x00000 ∷ drive 32720 0 0x05300 ∷ drive 32720 7 0x08000 ∷ drive 32730 0 0x01300 ∷ drive 32730 7 0x00000 ∷ drive 32795 0 0x05300 ∷ drive 32795 7 0x08000 ∷ drive 32805 0 0x01200 ∷ drive 32805 7 0x00000 ∷ drive 32815 0 0x01b00 ∷ drive 33225 0 0x05b00 ∷ drive 33225 7 0x08000 ∷ drive 33235 0 0x01a00 ∷ drive 33235 7 0x00000 ∷ drive 33245 0 0x03b00 ∷ drive 33655 0 0x07b00 ∷ drive 33655 7 0x08000 ∷ drive 33665 0 0x03a00 ∷ drive 33665 7 0x00000 ∷ drive 33675 0 0x00000 ∷ []

abbrev struck_names_due_events : List Event
struck_names_due_events = events.Accept (command 1) ∷ events.Run (command 1) ∷ events.End (command 1) 2 ∷ events.Accept (sense 1) ∷ events.Run (sense 1) ∷ events.End (sense 1) 0 ∷ []

abbrev pub struck_names_due_shown : Shows
struck_names_due_shown = record { rows = reverse struck_names_due_rows; history = reverse struck_names_due_events; ended = true }

-- ---- tag_aborted_due

abbrev pub tag_aborted_due : ScenarioValue
tag_aborted_due = record {
  version = 1;
  hosts = record { dev = 7; latency = 8; most = 2; retries = 2; period = 0; offset = 0; lag = 0; offers = true } ∷ [];
  targets = record { dev = 3; latency = 14; retries = 2; disc = policies.Command; pick = picks.First; seek = 60000; period = 0; offset = 0; begins = false } ∷ [];
  units = record { target = 3; unit = 0; blocks = 1; size = 16; depth = 2 } ∷ [];
  fills = [];
  tapes = [];
  loads = [];
  commands = record { host = 7; target = 3; unit = 0; at = 0; tag = tags.Simple 5; cdb = (0 ∷ 0 ∷ 0 ∷ 0 ∷ 0 ∷ 0 ∷ []); payload = payloads.Nothing } ∷ record { host = 7; target = 3; unit = 0; at = 0; tag = tags.Simple 6; cdb = (0 ∷ 0 ∷ 0 ∷ 0 ∷ 0 ∷ 0 ∷ []); payload = payloads.Nothing } ∷ [];
  aborts = record { host = 7; target = 3; unit = 0; at = 20000; what = (aborts.Tag 5) } ∷ [];
  resets = [];
  faults = [];
}

abbrev pub tag_aborted_due_rows : List Row
tag_aborted_due_rows = drive 1208 7 0x00280 ∷ drive 3616 7 0x00680 ∷ drive 4824 7 0x10788 ∷ drive 4922 7 0x10588 ∷ drive 5336 3 0x00200 ∷ drive 5434 7 0x10000 ∷ drive 5448 3 0x02a00 ∷ drive 5862 3 0x06a00 ∷ drive 5870 7 0x101c0 ∷ drive 5933 7 0x181c0 ∷ drive 5947 3 0x02a00 ∷ drive 5955 7 0x10000 ∷ drive 5969 3 0x06a00 ∷ drive 5977 7 0x10020 ∷ drive 6040 7 0x18020 ∷ drive 6054 3 0x02a00 ∷ drive 6062 7 0x10000 ∷ drive 6076 3 0x06a00 ∷ drive 6084 7 0x00105 ∷ drive 6182 7 0x08105 ∷ drive 6196 3 0x02a00 ∷ drive 6204 7 0x00000 ∷ drive 6218 3 0x00a00 ∷ drive 6632 3 0x04a00 ∷ drive 6640 7 0x00100 ∷ drive 6703 7 0x08100 ∷ drive 6717 3 0x00a00 ∷ drive 6725 7 0x00000 ∷ drive 6739 3 0x04a00 ∷ drive 6747 7 0x00100 ∷ drive 6810 7 0x08100 ∷ drive 6824 3 0x00a00 ∷ drive 6832 7 0x00000 ∷ drive 6846 3 0x04a00 ∷ drive 6854 7 0x00100 ∷ drive 6917 7 0x08100 ∷ drive 6931 3 0x00a00 ∷ drive 6939 7 0x00000 ∷ drive 6953 3 0x04a00 ∷ drive 6961 7 0x00100 ∷ drive 7024 7 0x08100 ∷ drive 7038 3 0x00a00 ∷ drive 7046 7 0x00000 ∷ drive 7060 3 0x04a00 ∷ drive 7068 7 0x00100 ∷ drive 7131 7 0x08100 ∷ drive 7145 3 0x00a00 ∷ drive 7153 7 0x00000 ∷ drive 7167 3 0x04a00 ∷ drive 7175 7 0x00100 ∷ drive 7238 7 0x08100 ∷ drive 7252 3 0x00a00 ∷ drive 7260 7 0x00000 ∷ drive 7274 3 0x03a00 ∷ drive 8088 3 0x03a04 ∷ drive 8157 3 0x07a04 ∷ drive 8165 7 0x08000 ∷ drive 8179 3 0x03a00 ∷ drive 8187 7 0x00000 ∷ drive 8201 3 0x00000 ∷ drive 9409 7 0x00280 ∷ drive 11817 7 0x00680 ∷ drive 13025 7 0x10788 ∷ drive 13123 7 0x10588 ∷ drive 13537 3 0x00200 ∷ drive 13635 7 0x10000 ∷ drive 13649 3 0x02a00 ∷ drive 14063 3 0x06a00 ∷ drive 14071 7 0x101c0 ∷ drive 14134 7 0x181c0 ∷ drive 14148 3 0x02a00 ∷ drive 14156 7 0x10000 ∷ drive 14170 3 0x06a00 ∷ drive 14178 7 0x10020 ∷ drive 14241 7 0x18020 ∷ drive 14255 3 0x02a00 ∷ drive 14263 7 0x10000 ∷ drive 14277 3 0x06a00 ∷ drive 14285 7 0x00106 ∷ drive 14383 7 0x08106 ∷ drive 14397 3 0x02a00 ∷ drive 14405 7 0x00000 ∷ drive 14419 3 0x00a00 ∷ drive 14833 3 0x04a00 ∷ drive 14841 7 0x00100 ∷ drive 14904 7 0x08100 ∷ drive 14918 3 0x00a00 ∷ drive 14926 7 0x00000 ∷ drive 14940 3 0x04a00 ∷ drive 14948 7 0x00100 ∷ drive 15011 7 0x08100 ∷ drive 15025 3 0x00a00 ∷ drive 15033 7 0x00000 ∷ drive 15047 3 0x04a00 ∷ drive 15055 7 0x00100 ∷ drive 15118 7 0x08100 ∷ drive 15132 3 0x00a00 ∷ drive 15140 7 0x00000 ∷ drive 15154 3 0x04a00 ∷ drive 15162 7 0x00100 ∷ drive 15225 7 0x08100 ∷ drive 15239 3 0x00a00 ∷ drive 15247 7 0x00000 ∷ drive 15261 3 0x04a00 ∷ drive 15269 7 0x00100 ∷ drive 15332 7 0x08100 ∷ drive 15346 3 0x00a00 ∷ drive 15354 7 0x00000 ∷ drive 15368 3 0x04a00 ∷ drive 15376 7 0x00100 ∷ drive 15439 7 0x08100 ∷ drive 15453 3 0x00a00 ∷ drive 15461 7 0x00000 ∷ drive 15475 3 0x03a00 ∷ drive 16289 3 0x03a04 ∷ drive 16358 3 0x07a04 ∷ drive 16366 7 0x08000 ∷ drive 16380 3 0x03a00 ∷ drive 16388 7 0x00000 ∷ drive 16402 3 0x00000 ∷ drive 20008 7 0x00280 ∷ drive 22416 7 0x00680 ∷ drive 23624 7 0x10788 ∷ drive 23722 7 0x10588 ∷ drive 24136 3 0x00200 ∷ drive 24234 7 0x10000 ∷ drive 24248 3 0x02a00 ∷ drive 24662 3 0x06a00 ∷ drive 24670 7 0x10080 ∷ drive 24733 7 0x18080 ∷ drive 24747 3 0x02a00 ∷ drive 24755 7 0x10000 ∷ drive 24769 3 0x06a00 ∷ drive 24777 7 0x10020 ∷ drive 24840 7 0x18020 ∷ drive 24854 3 0x02a00 ∷ drive 24862 7 0x10000 ∷ drive 24876 3 0x06a00 ∷ drive 24884 7 0x10105 ∷ drive 24947 7 0x18105 ∷ drive 24961 3 0x02a00 ∷ drive 24969 7 0x10000 ∷ drive 24983 3 0x06a00 ∷ drive 24991 7 0x0000d ∷ drive 25089 7 0x0800d ∷ drive 25103 3 0x02a00 ∷ drive 25111 7 0x00000 ∷ drive 25125 3 0x00000 ∷ drive 85139 3 0x00208 ∷ drive 87553 3 0x00608 ∷ drive 88767 3 0x01788 ∷ drive 88871 3 0x01588 ∷ drive 89279 7 0x00200 ∷ drive 89293 3 0x01788 ∷ drive 89397 3 0x03a80 ∷ drive 89405 7 0x00000 ∷ drive 89811 3 0x07a80 ∷ drive 89819 7 0x08000 ∷ drive 89833 3 0x03a20 ∷ drive 89841 7 0x00000 ∷ drive 89902 3 0x07a20 ∷ drive 89910 7 0x08000 ∷ drive 89924 3 0x03b06 ∷ drive 89932 7 0x00000 ∷ drive 89993 3 0x07b06 ∷ drive 90001 7 0x08000 ∷ drive 90015 3 0x03a00 ∷ drive 90023 7 0x00000 ∷ drive 90037 3 0x01b00 ∷ drive 90451 3 0x05b00 ∷ drive 90459 7 0x08000 ∷ drive 90473 3 0x01a00 ∷ drive 90481 7 0x00000 ∷ drive 90495 3 0x03b00 ∷ drive 90909 3 0x07b00 ∷ drive 90917 7 0x08000 ∷ drive 90931 3 0x03a00 ∷ drive 90939 7 0x00000 ∷ drive 90953 3 0x00000 ∷ []

abbrev tag_aborted_due_events : List Event
tag_aborted_due_events = events.Accept (command 1) ∷ events.Accept (command 2) ∷ events.Aborted 7 3 0 (aborts.Tag 5) ∷ events.Run (command 2) ∷ events.End (command 2) 0 ∷ []

abbrev pub tag_aborted_due_shown : Shows
tag_aborted_due_shown = record { rows = reverse tag_aborted_due_rows; history = reverse tag_aborted_due_events; ended = true }

-- ---- tagged_opening_struck_due

abbrev pub tagged_opening_struck_due : ScenarioValue
tagged_opening_struck_due = record {
  version = 1;
  hosts = record { dev = 5; latency = 7; most = 1; retries = 2; period = 0; offset = 0; lag = 0; offers = true } ∷ [];
  targets = record { dev = 2; latency = 25; retries = 2; disc = policies.Never; pick = picks.First; seek = 0; period = 0; offset = 0; begins = false } ∷ [];
  units = record { target = 2; unit = 1; blocks = 1; size = 16; depth = 2 } ∷ [];
  fills = [];
  tapes = [];
  loads = [];
  commands = record { host = 5; target = 2; unit = 1; at = 0; tag = tags.Ordered 77; cdb = (0 ∷ 0 ∷ 0 ∷ 0 ∷ 0 ∷ 0 ∷ []); payload = payloads.Nothing } ∷ [];
  aborts = [];
  resets = [];
  faults = record { at = 6085; bit = 3 } ∷ record { at = 6533; bit = 8 } ∷ [];
}

abbrev pub tagged_opening_struck_due_rows : List Row
tagged_opening_struck_due_rows = drive 1207 5 0x00220 ∷ drive 3614 5 0x00620 ∷ drive 4821 5 0x10724 ∷ drive 4918 5 0x10524 ∷ drive 5343 2 0x00200 ∷ drive 5440 5 0x10000 ∷ drive 5465 2 0x02a00 ∷ drive 5890 2 0x06a00 ∷ drive 5897 5 0x100c1 ∷ drive 5959 5 0x180c1 ∷ drive 5984 2 0x02a00 ∷ drive 5991 5 0x10000 ∷ drive 6016 2 0x06a00 ∷ drive 6023 5 0x10122 ∷ drive 6085 5 0x18122 ∷ strike 6085 2 3 ∷ drive 6110 2 0x02a00 ∷ drive 6117 5 0x10000 ∷ drive 6142 2 0x06a00 ∷ drive 6149 5 0x0014d ∷ drive 6246 5 0x0814d ∷ drive 6271 2 0x02a00 ∷ drive 6278 5 0x00000 ∷ drive 6303 2 0x06a00 ∷ drive 6310 5 0x100c1 ∷ drive 6407 5 0x180c1 ∷ drive 6432 2 0x02a00 ∷ drive 6439 5 0x10000 ∷ drive 6464 2 0x06a00 ∷ drive 6471 5 0x10122 ∷ drive 6533 5 0x18122 ∷ strike 6533 2 8 ∷ drive 6558 2 0x02a00 ∷ drive 6565 5 0x10000 ∷ drive 6590 2 0x06a00 ∷ drive 6597 5 0x0014d ∷ drive 6694 5 0x0814d ∷ drive 6719 2 0x02a00 ∷ drive 6726 5 0x00000 ∷ drive 6751 2 0x06a00 ∷ drive 6758 5 0x100c1 ∷ drive 6855 5 0x180c1 ∷ drive 6880 2 0x02a00 ∷ drive 6887 5 0x10000 ∷ drive 6912 2 0x06a00 ∷ drive 6919 5 0x10122 ∷ drive 6981 5 0x18122 ∷ drive 7006 2 0x02a00 ∷ drive 7013 5 0x10000 ∷ drive 7038 2 0x06a00 ∷ drive 7045 5 0x0014d ∷ drive 7142 5 0x0814d ∷ drive 7167 2 0x02a00 ∷ drive 7174 5 0x00000 ∷ drive 7199 2 0x00a00 ∷ drive 7624 2 0x04a00 ∷ drive 7631 5 0x00100 ∷ drive 7693 5 0x08100 ∷ drive 7718 2 0x00a00 ∷ drive 7725 5 0x00000 ∷ drive 7750 2 0x04a00 ∷ drive 7757 5 0x00100 ∷ drive 7819 5 0x08100 ∷ drive 7844 2 0x00a00 ∷ drive 7851 5 0x00000 ∷ drive 7876 2 0x04a00 ∷ drive 7883 5 0x00100 ∷ drive 7945 5 0x08100 ∷ drive 7970 2 0x00a00 ∷ drive 7977 5 0x00000 ∷ drive 8002 2 0x04a00 ∷ drive 8009 5 0x00100 ∷ drive 8071 5 0x08100 ∷ drive 8096 2 0x00a00 ∷ drive 8103 5 0x00000 ∷ drive 8128 2 0x04a00 ∷ drive 8135 5 0x00100 ∷ drive 8197 5 0x08100 ∷ drive 8222 2 0x00a00 ∷ drive 8229 5 0x00000 ∷ drive 8254 2 0x04a00 ∷ drive 8261 5 0x00100 ∷ drive 8323 5 0x08100 ∷ drive 8348 2 0x00a00 ∷ drive 8355 5 0x00000 ∷ drive 8380 2 0x01a00 ∷ drive 9205 2 0x01b00 ∷ drive 9285 2 0x05b00 ∷ drive 9292 5 0x08000 ∷ drive 9317 2 0x01a00 ∷ drive 9324 5 0x00000 ∷ drive 9349 2 0x03b00 ∷ drive 9774 2 0x07b00 ∷ drive 9781 5 0x08000 ∷ drive 9806 2 0x03a00 ∷ drive 9813 5 0x00000 ∷ drive 9838 2 0x00000 ∷ []

abbrev tagged_opening_struck_due_events : List Event
tagged_opening_struck_due_events = events.Accept (command 1) ∷ events.Run (command 1) ∷ events.End (command 1) 0 ∷ []

abbrev pub tagged_opening_struck_due_shown : Shows
tagged_opening_struck_due_shown = record { rows = reverse tagged_opening_struck_due_rows; history = reverse tagged_opening_struck_due_events; ended = true }

-- ---- text_two_due

abbrev pub text_two_due : ScenarioValue
text_two_due = record {
  version = 2;
  hosts = record { dev = 6; latency = 3; most = 2; retries = 2; period = 25; offset = 8; lag = 40; offers = false } ∷ [];
  targets = record { dev = 1; latency = 5; retries = 2; disc = policies.Burst 1; pick = picks.Last; seek = 1000; period = 30; offset = 8; begins = true } ∷ [];
  units = record { target = 1; unit = 4; blocks = 2; size = 16; depth = 2 } ∷ [];
  fills = record { target = 1; unit = 4; lba = 1; bytes = (255 ∷ 0 ∷ 0 ∷ 0 ∷ 255 ∷ 0 ∷ 0 ∷ 0 ∷ 255 ∷ 0 ∷ 0 ∷ 0 ∷ 255 ∷ 0 ∷ 0 ∷ 0 ∷ []) } ∷ [];
  tapes = [];
  loads = [];
  commands = record { host = 6; target = 1; unit = 4; at = 0; tag = tags.Untagged; cdb = (0 ∷ 0 ∷ 0 ∷ 0 ∷ 0 ∷ 0 ∷ []); payload = payloads.Nothing } ∷ record { host = 6; target = 1; unit = 4; at = 35000; tag = tags.Simple 3; cdb = (8 ∷ 0 ∷ 0 ∷ 0 ∷ 2 ∷ 0 ∷ []); payload = payloads.Nothing } ∷ record { host = 6; target = 1; unit = 4; at = 35000; tag = tags.Simple 4; cdb = (8 ∷ 0 ∷ 0 ∷ 0 ∷ 2 ∷ 0 ∷ []); payload = payloads.Nothing } ∷ [];
  aborts = [];
  resets = record { dev = 1; at = 9000 } ∷ [];
  faults = record { at = 76600; bit = 3 } ∷ [];
}

abbrev pub text_two_due_rows : List Row
text_two_due_rows = drive 1203 6 0x00240 ∷ drive 3606 6 0x00640 ∷ drive 4809 6 0x10742 ∷ drive 4902 6 0x10542 ∷ drive 5307 1 0x00200 ∷ drive 5400 6 0x10000 ∷ drive 5405 1 0x02a00 ∷ drive 5810 1 0x06a00 ∷ drive 5813 6 0x000c4 ∷ drive 5906 6 0x080c4 ∷ drive 5911 1 0x02a00 ∷ drive 5914 6 0x00000 ∷ drive 5919 1 0x03a00 ∷ drive 6724 1 0x03a01 ∷ drive 6784 1 0x07a01 ∷ drive 6787 6 0x08000 ∷ drive 6792 1 0x03b03 ∷ drive 6795 6 0x00000 ∷ drive 6852 1 0x07b03 ∷ drive 6855 6 0x08000 ∷ drive 6860 1 0x03a01 ∷ drive 6863 6 0x00000 ∷ drive 6920 1 0x07a01 ∷ drive 6923 6 0x08000 ∷ drive 6928 1 0x03b1e ∷ drive 6931 6 0x00000 ∷ drive 6988 1 0x07b1e ∷ drive 6991 6 0x08000 ∷ drive 6996 1 0x03a08 ∷ drive 6999 6 0x00000 ∷ drive 7056 1 0x07a08 ∷ drive 7059 6 0x18000 ∷ drive 7064 1 0x03a00 ∷ drive 7152 6 0x10000 ∷ drive 7157 1 0x02a00 ∷ drive 7562 1 0x06a00 ∷ drive 7565 6 0x10001 ∷ drive 7623 6 0x18001 ∷ drive 7628 1 0x02a00 ∷ drive 7631 6 0x10000 ∷ drive 7636 1 0x06a00 ∷ drive 7639 6 0x10103 ∷ drive 7697 6 0x18103 ∷ drive 7702 1 0x02a00 ∷ drive 7705 6 0x10000 ∷ drive 7710 1 0x06a00 ∷ drive 7713 6 0x10001 ∷ drive 7771 6 0x18001 ∷ drive 7776 1 0x02a00 ∷ drive 7779 6 0x10000 ∷ drive 7784 1 0x06a00 ∷ drive 7787 6 0x1011e ∷ drive 7845 6 0x1811e ∷ drive 7850 1 0x02a00 ∷ drive 7853 6 0x10000 ∷ drive 7858 1 0x06a00 ∷ drive 7861 6 0x00008 ∷ drive 7954 6 0x08008 ∷ drive 7959 1 0x02a00 ∷ drive 7962 6 0x00000 ∷ drive 7967 1 0x00a00 ∷ drive 8372 1 0x04a00 ∷ drive 8375 6 0x00100 ∷ drive 8433 6 0x08100 ∷ drive 8438 1 0x00a00 ∷ drive 8441 6 0x00000 ∷ drive 8446 1 0x04a00 ∷ drive 8449 6 0x00100 ∷ drive 8507 6 0x08100 ∷ drive 8512 1 0x00a00 ∷ drive 8515 6 0x00000 ∷ drive 8520 1 0x04a00 ∷ drive 8523 6 0x00100 ∷ drive 8581 6 0x08100 ∷ drive 8586 1 0x00a00 ∷ drive 8589 6 0x00000 ∷ drive 8594 1 0x04a00 ∷ drive 8597 6 0x00100 ∷ drive 8655 6 0x08100 ∷ drive 8660 1 0x00a00 ∷ drive 8663 6 0x00000 ∷ drive 8668 1 0x04a00 ∷ drive 8671 6 0x00100 ∷ drive 8729 6 0x08100 ∷ drive 8734 1 0x00a00 ∷ drive 8737 6 0x00000 ∷ drive 8742 1 0x04a00 ∷ drive 8745 6 0x00100 ∷ drive 8803 6 0x08100 ∷ drive 8808 1 0x00a00 ∷ drive 8811 6 0x00000 ∷ drive 8816 1 0x03a00 ∷ drive 9000 1 0x20000 ∷ drive 34005 1 0x00000 ∷ drive 35208 6 0x00240 ∷ drive 37611 6 0x00640 ∷ drive 38814 6 0x10742 ∷ drive 38907 6 0x10542 ∷ drive 39312 1 0x00200 ∷ drive 39405 6 0x10000 ∷ drive 39410 1 0x02a00 ∷ drive 39815 1 0x06a00 ∷ drive 39818 6 0x100c4 ∷ drive 39876 6 0x180c4 ∷ drive 39881 1 0x02a00 ∷ drive 39884 6 0x10000 ∷ drive 39889 1 0x06a00 ∷ drive 39892 6 0x10020 ∷ drive 39950 6 0x18020 ∷ drive 39955 1 0x02a00 ∷ drive 39958 6 0x10000 ∷ drive 39963 1 0x06a00 ∷ drive 39966 6 0x00103 ∷ drive 40059 6 0x08103 ∷ drive 40064 1 0x02a00 ∷ drive 40067 6 0x00000 ∷ drive 40072 1 0x03a00 ∷ drive 40877 1 0x03a01 ∷ drive 40937 1 0x07a01 ∷ drive 40940 6 0x08000 ∷ drive 40945 1 0x03b03 ∷ drive 40948 6 0x00000 ∷ drive 41005 1 0x07b03 ∷ drive 41008 6 0x08000 ∷ drive 41013 1 0x03a01 ∷ drive 41016 6 0x00000 ∷ drive 41073 1 0x07a01 ∷ drive 41076 6 0x08000 ∷ drive 41081 1 0x03b1e ∷ drive 41084 6 0x00000 ∷ drive 41141 1 0x07b1e ∷ drive 41144 6 0x08000 ∷ drive 41149 1 0x03a08 ∷ drive 41152 6 0x00000 ∷ drive 41209 1 0x07a08 ∷ drive 41212 6 0x18000 ∷ drive 41217 1 0x03a00 ∷ drive 41305 6 0x10000 ∷ drive 41310 1 0x02a00 ∷ drive 41715 1 0x06a00 ∷ drive 41718 6 0x10001 ∷ drive 41776 6 0x18001 ∷ drive 41781 1 0x02a00 ∷ drive 41784 6 0x10000 ∷ drive 41789 1 0x06a00 ∷ drive 41792 6 0x10103 ∷ drive 41850 6 0x18103 ∷ drive 41855 1 0x02a00 ∷ drive 41858 6 0x10000 ∷ drive 41863 1 0x06a00 ∷ drive 41866 6 0x10001 ∷ drive 41924 6 0x18001 ∷ drive 41929 1 0x02a00 ∷ drive 41932 6 0x10000 ∷ drive 41937 1 0x06a00 ∷ drive 41940 6 0x1011e ∷ drive 41998 6 0x1811e ∷ drive 42003 1 0x02a00 ∷ drive 42006 6 0x10000 ∷ drive 42011 1 0x06a00 ∷ drive 42014 6 0x00008 ∷ drive 42107 6 0x08008 ∷ drive 42112 1 0x02a00 ∷ drive 42115 6 0x00000 ∷ drive 42120 1 0x00a00 ∷ drive 42525 1 0x04a00 ∷ drive 42528 6 0x00008 ∷ drive 42586 6 0x08008 ∷ drive 42591 1 0x00a00 ∷ drive 42594 6 0x00000 ∷ drive 42599 1 0x04a00 ∷ drive 42602 6 0x00100 ∷ drive 42660 6 0x08100 ∷ drive 42665 1 0x00a00 ∷ drive 42668 6 0x00000 ∷ drive 42673 1 0x04a00 ∷ drive 42676 6 0x00100 ∷ drive 42734 6 0x08100 ∷ drive 42739 1 0x00a00 ∷ drive 42742 6 0x00000 ∷ drive 42747 1 0x04a00 ∷ drive 42750 6 0x00100 ∷ drive 42808 6 0x08100 ∷ drive 42813 1 0x00a00 ∷ drive 42816 6 0x00000 ∷ drive 42821 1 0x04a00 ∷ drive 42824 6 0x00002 ∷ drive 42882 6 0x08002 ∷ drive 42887 1 0x00a00 ∷ drive 42890 6 0x00000 ∷ drive 42895 1 0x04a00 ∷ drive 42898 6 0x00100 ∷ drive 42956 6 0x08100 ∷ drive 42961 1 0x00a00 ∷ drive 42964 6 0x00000 ∷ drive 42969 1 0x03a00 ∷ drive 43774 1 0x03a04 ∷ drive 43834 1 0x07a04 ∷ drive 43837 6 0x08000 ∷ drive 43842 1 0x03a00 ∷ drive 43845 6 0x00000 ∷ drive 43850 1 0x00000 ∷ drive 45053 6 0x00240 ∷ drive 45055 1 0x00202 ∷ drive 47456 6 0x00640 ∷ drive 47461 1 0x00000 ∷ drive 48659 6 0x10742 ∷ drive 48752 6 0x10542 ∷ drive 49157 1 0x00200 ∷ drive 49250 6 0x10000 ∷ drive 49255 1 0x02a00 ∷ drive 49660 1 0x06a00 ∷ drive 49663 6 0x100c4 ∷ drive 49721 6 0x180c4 ∷ drive 49726 1 0x02a00 ∷ drive 49729 6 0x10000 ∷ drive 49734 1 0x06a00 ∷ drive 49737 6 0x10020 ∷ drive 49795 6 0x18020 ∷ drive 49800 1 0x02a00 ∷ drive 49803 6 0x10000 ∷ drive 49808 1 0x06a00 ∷ drive 49811 6 0x00004 ∷ drive 49904 6 0x08004 ∷ drive 49909 1 0x02a00 ∷ drive 49912 6 0x00000 ∷ drive 49917 1 0x00a00 ∷ drive 50322 1 0x04a00 ∷ drive 50325 6 0x00008 ∷ drive 50383 6 0x08008 ∷ drive 50388 1 0x00a00 ∷ drive 50391 6 0x00000 ∷ drive 50396 1 0x04a00 ∷ drive 50399 6 0x00100 ∷ drive 50457 6 0x08100 ∷ drive 50462 1 0x00a00 ∷ drive 50465 6 0x00000 ∷ drive 50470 1 0x04a00 ∷ drive 50473 6 0x00100 ∷ drive 50531 6 0x08100 ∷ drive 50536 1 0x00a00 ∷ drive 50539 6 0x00000 ∷ drive 50544 1 0x04a00 ∷ drive 50547 6 0x00100 ∷ drive 50605 6 0x08100 ∷ drive 50610 1 0x00a00 ∷ drive 50613 6 0x00000 ∷ drive 50618 1 0x04a00 ∷ drive 50621 6 0x00002 ∷ drive 50679 6 0x08002 ∷ drive 50684 1 0x00a00 ∷ drive 50687 6 0x00000 ∷ drive 50692 1 0x04a00 ∷ drive 50695 6 0x00100 ∷ drive 50753 6 0x08100 ∷ drive 50758 1 0x00a00 ∷ drive 50761 6 0x00000 ∷ drive 50766 1 0x03a00 ∷ drive 51571 1 0x03a04 ∷ drive 51631 1 0x07a04 ∷ drive 51634 6 0x08000 ∷ drive 51639 1 0x03a00 ∷ drive 51642 6 0x00000 ∷ drive 51647 1 0x00000 ∷ drive 52852 1 0x00202 ∷ drive 55257 1 0x00602 ∷ drive 56462 1 0x01742 ∷ drive 56557 1 0x01542 ∷ drive 56960 6 0x00200 ∷ drive 56965 1 0x01742 ∷ drive 57060 1 0x03b84 ∷ drive 57063 6 0x00000 ∷ drive 57465 1 0x07b84 ∷ drive 57468 6 0x08000 ∷ drive 57473 1 0x03a20 ∷ drive 57476 6 0x00000 ∷ drive 57533 1 0x07a20 ∷ drive 57536 6 0x08000 ∷ drive 57541 1 0x03b03 ∷ drive 57544 6 0x00000 ∷ drive 57601 1 0x07b03 ∷ drive 57604 6 0x08000 ∷ drive 57609 1 0x03a00 ∷ drive 57612 6 0x00000 ∷ drive 57617 1 0x01a02 ∷ drive 58022 1 0x05a02 ∷ drive 58025 6 0x08000 ∷ drive 58030 1 0x01a00 ∷ drive 58033 6 0x00000 ∷ drive 58038 1 0x03b00 ∷ drive 58443 1 0x07b00 ∷ drive 58446 6 0x08000 ∷ drive 58451 1 0x03a00 ∷ drive 58454 6 0x00000 ∷ drive 58459 1 0x00000 ∷ drive 59662 6 0x00240 ∷ drive 62065 6 0x00640 ∷ drive 63268 6 0x10742 ∷ drive 63361 6 0x10542 ∷ drive 63766 1 0x00200 ∷ drive 63859 6 0x10000 ∷ drive 63864 1 0x02a00 ∷ drive 64269 1 0x06a00 ∷ drive 64272 6 0x00184 ∷ drive 64365 6 0x08184 ∷ drive 64370 1 0x02a00 ∷ drive 64373 6 0x00000 ∷ drive 64378 1 0x00a00 ∷ drive 64783 1 0x04a00 ∷ drive 64786 6 0x00103 ∷ drive 64844 6 0x08103 ∷ drive 64849 1 0x00a00 ∷ drive 64852 6 0x00000 ∷ drive 64857 1 0x04a00 ∷ drive 64860 6 0x00100 ∷ drive 64918 6 0x08100 ∷ drive 64923 1 0x00a00 ∷ drive 64926 6 0x00000 ∷ drive 64931 1 0x04a00 ∷ drive 64934 6 0x00100 ∷ drive 64992 6 0x08100 ∷ drive 64997 1 0x00a00 ∷ drive 65000 6 0x00000 ∷ drive 65005 1 0x04a00 ∷ drive 65008 6 0x00100 ∷ drive 65066 6 0x08100 ∷ drive 65071 1 0x00a00 ∷ drive 65074 6 0x00000 ∷ drive 65079 1 0x04a00 ∷ drive 65082 6 0x00112 ∷ drive 65140 6 0x08112 ∷ drive 65145 1 0x00a00 ∷ drive 65148 6 0x00000 ∷ drive 65153 1 0x04a00 ∷ drive 65156 6 0x00100 ∷ drive 65214 6 0x08100 ∷ drive 65219 1 0x00a00 ∷ drive 65222 6 0x00000 ∷ drive 65227 1 0x01200 ∷ drive 66032 1 0x01270 ∷ drive 66092 1 0x05270 ∷ drive 66127 1 0x01270 ∷ drive 66132 1 0x01300 ∷ drive 66135 6 0x08000 ∷ drive 66168 6 0x00000 ∷ drive 66217 1 0x05300 ∷ drive 66252 1 0x01300 ∷ drive 66257 1 0x01306 ∷ drive 66260 6 0x08000 ∷ drive 66293 6 0x00000 ∷ drive 66342 1 0x05306 ∷ drive 66377 1 0x01306 ∷ drive 66382 1 0x01300 ∷ drive 66385 6 0x08000 ∷ drive 66418 6 0x00000 ∷ drive 66467 1 0x05300 ∷ drive 66502 1 0x01300 ∷ drive 66510 6 0x08000 ∷ drive 66543 6 0x00000 ∷ drive 66592 1 0x05300 ∷ drive 66627 1 0x01300 ∷ drive 66635 6 0x08000 ∷ drive 66668 6 0x00000 ∷ drive 66717 1 0x05300 ∷ drive 66752 1 0x01300 ∷ drive 66760 6 0x08000 ∷ drive 66793 6 0x00000 ∷ drive 66842 1 0x05300 ∷ drive 66877 1 0x01300 ∷ drive 66882 1 0x0130a ∷ drive 66885 6 0x08000 ∷ drive 66918 6 0x00000 ∷ drive 66967 1 0x0530a ∷ drive 67002 1 0x0130a ∷ drive 67007 1 0x01300 ∷ drive 67010 6 0x08000 ∷ drive 67043 6 0x00000 ∷ drive 67092 1 0x05300 ∷ drive 67127 1 0x01300 ∷ drive 67135 6 0x08000 ∷ drive 67168 6 0x00000 ∷ drive 67217 1 0x05300 ∷ drive 67252 1 0x01300 ∷ drive 67260 6 0x08000 ∷ drive 67293 6 0x00000 ∷ drive 67342 1 0x05300 ∷ drive 67377 1 0x01300 ∷ drive 67385 6 0x08000 ∷ drive 67418 6 0x00000 ∷ drive 67467 1 0x05300 ∷ drive 67502 1 0x01300 ∷ drive 67507 1 0x01229 ∷ drive 67510 6 0x08000 ∷ drive 67543 6 0x00000 ∷ drive 67592 1 0x05229 ∷ drive 67627 1 0x01229 ∷ drive 67632 1 0x01300 ∷ drive 67635 6 0x08000 ∷ drive 67668 6 0x00000 ∷ drive 67717 1 0x05300 ∷ drive 67752 1 0x01300 ∷ drive 67760 6 0x08000 ∷ drive 67793 6 0x00000 ∷ drive 67842 1 0x05300 ∷ drive 67877 1 0x01300 ∷ drive 67885 6 0x08000 ∷ drive 67918 6 0x00000 ∷ drive 67967 1 0x05300 ∷ drive 68002 1 0x01300 ∷ drive 68010 6 0x08000 ∷ drive 68043 6 0x00000 ∷ drive 68092 1 0x05300 ∷ drive 68127 1 0x01300 ∷ drive 68135 6 0x08000 ∷ drive 68168 6 0x00000 ∷ drive 68217 1 0x05300 ∷ drive 68252 1 0x01300 ∷ drive 68257 1 0x01200 ∷ drive 68260 6 0x08000 ∷ drive 68293 6 0x00000 ∷ drive 68298 1 0x01b00 ∷ drive 68703 1 0x05b00 ∷ drive 68706 6 0x08000 ∷ drive 68711 1 0x01a00 ∷ drive 68714 6 0x00000 ∷ drive 68719 1 0x03b00 ∷ drive 69124 1 0x07b00 ∷ drive 69127 6 0x08000 ∷ drive 69132 1 0x03a00 ∷ drive 69135 6 0x00000 ∷ drive 69140 1 0x00000 ∷ drive 70345 1 0x00202 ∷ drive 72750 1 0x00602 ∷ drive 73955 1 0x01742 ∷ drive 74050 1 0x01542 ∷ drive 74453 6 0x00200 ∷ drive 74458 1 0x01742 ∷ drive 74553 1 0x03b84 ∷ drive 74556 6 0x00000 ∷ drive 74958 1 0x07b84 ∷ drive 74961 6 0x08000 ∷ drive 74966 1 0x03a20 ∷ drive 74969 6 0x00000 ∷ drive 75026 1 0x07a20 ∷ drive 75029 6 0x08000 ∷ drive 75034 1 0x03a04 ∷ drive 75037 6 0x00000 ∷ drive 75094 1 0x07a04 ∷ drive 75097 6 0x08000 ∷ drive 75102 1 0x03a00 ∷ drive 75105 6 0x00000 ∷ drive 75110 1 0x01300 ∷ drive 75515 1 0x05300 ∷ drive 75550 1 0x01300 ∷ drive 75558 6 0x08000 ∷ drive 75591 6 0x00000 ∷ drive 75640 1 0x05300 ∷ drive 75675 1 0x01300 ∷ drive 75683 6 0x08000 ∷ drive 75716 6 0x00000 ∷ drive 75765 1 0x05300 ∷ drive 75800 1 0x01300 ∷ drive 75808 6 0x08000 ∷ drive 75841 6 0x00000 ∷ drive 75890 1 0x05300 ∷ drive 75925 1 0x01300 ∷ drive 75933 6 0x08000 ∷ drive 75966 6 0x00000 ∷ drive 76015 1 0x05300 ∷ drive 76050 1 0x01300 ∷ drive 76058 6 0x08000 ∷ drive 76091 6 0x00000 ∷ drive 76140 1 0x05300 ∷ drive 76175 1 0x01300 ∷ drive 76183 6 0x08000 ∷ drive 76216 6 0x00000 ∷ drive 76265 1 0x05300 ∷ drive 76300 1 0x01300 ∷ drive 76308 6 0x08000 ∷ drive 76341 6 0x00000 ∷ drive 76390 1 0x05300 ∷ drive 76425 1 0x01300 ∷ drive 76433 6 0x08000 ∷ drive 76466 6 0x00000 ∷ drive 76515 1 0x05300 ∷ drive 76550 1 0x01300 ∷ drive 76558 6 0x08000 ∷ drive 76591 6 0x00000 ∷ drive 76640 1 0x05300 ∷ strike 76640 6 3 ∷ drive 76675 1 0x01300 ∷ drive 76683 6 0x18000 ∷ drive 76765 1 0x05300 ∷ drive 76776 6 0x10000 ∷ drive 76800 1 0x01300 ∷ drive 76809 6 0x18000 ∷ drive 76842 6 0x10000 ∷ drive 76890 1 0x05300 ∷ drive 76925 1 0x01300 ∷ drive 76933 6 0x18000 ∷ drive 76966 6 0x10000 ∷ drive 77015 1 0x05300 ∷ drive 77050 1 0x01300 ∷ drive 77058 6 0x18000 ∷ drive 77091 6 0x10000 ∷ drive 77140 1 0x05300 ∷ drive 77175 1 0x01300 ∷ drive 77183 6 0x18000 ∷ drive 77216 6 0x10000 ∷ drive 77265 1 0x05300 ∷ drive 77300 1 0x01300 ∷ drive 77308 6 0x18000 ∷ drive 77341 6 0x10000 ∷ drive 77390 1 0x05300 ∷ drive 77425 1 0x01300 ∷ drive 77430 1 0x01200 ∷ drive 77433 6 0x18000 ∷ drive 77466 6 0x10000 ∷ drive 77471 1 0x02a00 ∷ drive 77876 1 0x06a00 ∷ drive 77879 6 0x00105 ∷ drive 77972 6 0x08105 ∷ drive 77977 1 0x02a00 ∷ drive 77980 6 0x00000 ∷ drive 77985 1 0x03a00 ∷ drive 78790 1 0x03b03 ∷ drive 78850 1 0x07b03 ∷ drive 78853 6 0x08000 ∷ drive 78858 1 0x03a00 ∷ drive 78861 6 0x00000 ∷ drive 78866 1 0x01300 ∷ drive 79271 1 0x05300 ∷ drive 79306 1 0x01300 ∷ drive 79314 6 0x08000 ∷ drive 79347 6 0x00000 ∷ drive 79396 1 0x05300 ∷ drive 79431 1 0x01300 ∷ drive 79439 6 0x08000 ∷ drive 79472 6 0x00000 ∷ drive 79521 1 0x05300 ∷ drive 79556 1 0x01300 ∷ drive 79564 6 0x08000 ∷ drive 79597 6 0x00000 ∷ drive 79646 1 0x05300 ∷ drive 79681 1 0x01300 ∷ drive 79689 6 0x08000 ∷ drive 79722 6 0x00000 ∷ drive 79771 1 0x05300 ∷ drive 79806 1 0x01300 ∷ drive 79814 6 0x08000 ∷ drive 79847 6 0x00000 ∷ drive 79896 1 0x05300 ∷ drive 79931 1 0x01300 ∷ drive 79939 6 0x08000 ∷ drive 79972 6 0x00000 ∷ drive 80021 1 0x05300 ∷ drive 80056 1 0x01300 ∷ drive 80064 6 0x08000 ∷ drive 80097 6 0x00000 ∷ drive 80146 1 0x05300 ∷ drive 80181 1 0x01300 ∷ drive 80189 6 0x08000 ∷ drive 80222 6 0x00000 ∷ drive 80271 1 0x05300 ∷ drive 80306 1 0x01300 ∷ drive 80314 6 0x08000 ∷ drive 80347 6 0x00000 ∷ drive 80396 1 0x05300 ∷ drive 80431 1 0x01300 ∷ drive 80439 6 0x08000 ∷ drive 80472 6 0x00000 ∷ drive 80521 1 0x05300 ∷ drive 80556 1 0x01300 ∷ drive 80564 6 0x08000 ∷ drive 80597 6 0x00000 ∷ drive 80646 1 0x05300 ∷ drive 80681 1 0x01300 ∷ drive 80689 6 0x08000 ∷ drive 80722 6 0x00000 ∷ drive 80771 1 0x05300 ∷ drive 80806 1 0x01300 ∷ drive 80814 6 0x08000 ∷ drive 80847 6 0x00000 ∷ drive 80896 1 0x05300 ∷ drive 80931 1 0x01300 ∷ drive 80939 6 0x08000 ∷ drive 80972 6 0x00000 ∷ drive 81021 1 0x05300 ∷ drive 81056 1 0x01300 ∷ drive 81064 6 0x08000 ∷ drive 81097 6 0x00000 ∷ drive 81146 1 0x05300 ∷ drive 81181 1 0x01300 ∷ drive 81186 1 0x01200 ∷ drive 81189 6 0x08000 ∷ drive 81222 6 0x00000 ∷ drive 81227 1 0x03a02 ∷ drive 81632 1 0x07a02 ∷ drive 81635 6 0x08000 ∷ drive 81640 1 0x03a04 ∷ drive 81643 6 0x00000 ∷ drive 81700 1 0x07a04 ∷ drive 81703 6 0x08000 ∷ drive 81708 1 0x03a00 ∷ drive 81711 6 0x00000 ∷ drive 81716 1 0x00000 ∷ drive 82921 1 0x00202 ∷ drive 85326 1 0x00602 ∷ drive 86531 1 0x01742 ∷ drive 86626 1 0x01542 ∷ drive 87029 6 0x00200 ∷ drive 87034 1 0x01742 ∷ drive 87129 1 0x03b84 ∷ drive 87132 6 0x00000 ∷ drive 87534 1 0x07b84 ∷ drive 87537 6 0x08000 ∷ drive 87542 1 0x03a20 ∷ drive 87545 6 0x00000 ∷ drive 87602 1 0x07a20 ∷ drive 87605 6 0x08000 ∷ drive 87610 1 0x03a04 ∷ drive 87613 6 0x00000 ∷ drive 87670 1 0x07a04 ∷ drive 87673 6 0x08000 ∷ drive 87678 1 0x03a00 ∷ drive 87681 6 0x00000 ∷ drive 87686 1 0x013ff ∷ drive 88091 1 0x053ff ∷ drive 88126 1 0x013ff ∷ drive 88131 1 0x01300 ∷ drive 88134 6 0x08000 ∷ drive 88167 6 0x00000 ∷ drive 88216 1 0x05300 ∷ drive 88251 1 0x01300 ∷ drive 88259 6 0x08000 ∷ drive 88292 6 0x00000 ∷ drive 88341 1 0x05300 ∷ drive 88376 1 0x01300 ∷ drive 88384 6 0x08000 ∷ drive 88417 6 0x00000 ∷ drive 88466 1 0x05300 ∷ drive 88501 1 0x01300 ∷ drive 88506 1 0x013ff ∷ drive 88509 6 0x08000 ∷ drive 88542 6 0x00000 ∷ drive 88591 1 0x053ff ∷ drive 88626 1 0x013ff ∷ drive 88631 1 0x01300 ∷ drive 88634 6 0x08000 ∷ drive 88667 6 0x00000 ∷ drive 88716 1 0x05300 ∷ drive 88751 1 0x01300 ∷ drive 88759 6 0x08000 ∷ drive 88792 6 0x00000 ∷ drive 88841 1 0x05300 ∷ drive 88876 1 0x01300 ∷ drive 88884 6 0x08000 ∷ drive 88917 6 0x00000 ∷ drive 88966 1 0x05300 ∷ drive 89001 1 0x01300 ∷ drive 89006 1 0x013ff ∷ drive 89009 6 0x08000 ∷ drive 89042 6 0x00000 ∷ drive 89091 1 0x053ff ∷ drive 89126 1 0x013ff ∷ drive 89131 1 0x01300 ∷ drive 89134 6 0x08000 ∷ drive 89167 6 0x00000 ∷ drive 89216 1 0x05300 ∷ drive 89251 1 0x01300 ∷ drive 89259 6 0x08000 ∷ drive 89292 6 0x00000 ∷ drive 89341 1 0x05300 ∷ drive 89376 1 0x01300 ∷ drive 89384 6 0x08000 ∷ drive 89417 6 0x00000 ∷ drive 89466 1 0x05300 ∷ drive 89501 1 0x01300 ∷ drive 89506 1 0x013ff ∷ drive 89509 6 0x08000 ∷ drive 89542 6 0x00000 ∷ drive 89591 1 0x053ff ∷ drive 89626 1 0x013ff ∷ drive 89631 1 0x01300 ∷ drive 89634 6 0x08000 ∷ drive 89667 6 0x00000 ∷ drive 89716 1 0x05300 ∷ drive 89751 1 0x01300 ∷ drive 89759 6 0x08000 ∷ drive 89792 6 0x00000 ∷ drive 89841 1 0x05300 ∷ drive 89876 1 0x01300 ∷ drive 89884 6 0x08000 ∷ drive 89917 6 0x00000 ∷ drive 89966 1 0x05300 ∷ drive 90001 1 0x01300 ∷ drive 90006 1 0x01200 ∷ drive 90009 6 0x08000 ∷ drive 90042 6 0x00000 ∷ drive 90047 1 0x01b00 ∷ drive 90452 1 0x05b00 ∷ drive 90455 6 0x08000 ∷ drive 90460 1 0x01a00 ∷ drive 90463 6 0x00000 ∷ drive 90468 1 0x03b00 ∷ drive 90873 1 0x07b00 ∷ drive 90876 6 0x08000 ∷ drive 90881 1 0x03a00 ∷ drive 90884 6 0x00000 ∷ drive 90889 1 0x00000 ∷ []

abbrev text_two_due_events : List Event
text_two_due_events = events.Accept (command 1) ∷ events.Reset 1 ∷ events.Accept (command 2) ∷ events.Accept (command 3) ∷ events.Run (command 2) ∷ events.End (command 2) 2 ∷ events.Accept (sense 2) ∷ events.Run (sense 2) ∷ events.End (sense 2) 0 ∷ events.Run (command 3) ∷ events.End (command 3) 0 ∷ []

abbrev pub text_two_due_shown : Shows
text_two_due_shown = record { rows = reverse text_two_due_rows; history = reverse text_two_due_events; ended = true }

-- ---- three_contenders_due

abbrev pub three_contenders_due : ScenarioValue
three_contenders_due = record {
  version = 1;
  hosts = record { dev = 2; latency = 30; most = 1; retries = 2; period = 0; offset = 0; lag = 0; offers = true } ∷ record { dev = 7; latency = 100; most = 1; retries = 2; period = 0; offset = 0; lag = 0; offers = true } ∷ record { dev = 4; latency = 0; most = 1; retries = 2; period = 0; offset = 0; lag = 0; offers = true } ∷ [];
  targets = record { dev = 3; latency = 0; retries = 2; disc = policies.Never; pick = picks.First; seek = 0; period = 0; offset = 0; begins = false } ∷ [];
  units = record { target = 3; unit = 0; blocks = 1; size = 16; depth = 1 } ∷ [];
  fills = [];
  tapes = [];
  loads = [];
  commands = record { host = 2; target = 3; unit = 0; at = 0; tag = tags.Untagged; cdb = (0 ∷ 0 ∷ 0 ∷ 0 ∷ 0 ∷ 0 ∷ []); payload = payloads.Nothing } ∷ record { host = 7; target = 3; unit = 0; at = 0; tag = tags.Untagged; cdb = (0 ∷ 0 ∷ 0 ∷ 0 ∷ 0 ∷ 0 ∷ []); payload = payloads.Nothing } ∷ record { host = 4; target = 3; unit = 0; at = 0; tag = tags.Simple 1; cdb = (0 ∷ 0 ∷ 0 ∷ 0 ∷ 0 ∷ 0 ∷ []); payload = payloads.Nothing } ∷ [];
  aborts = [];
  resets = [];
  faults = [];
}

abbrev pub three_contenders_due_rows : List Row
three_contenders_due_rows = drive 1200 4 0x00210 ∷ drive 1230 2 0x00204 ∷ drive 1300 7 0x00280 ∷ drive 3800 7 0x00680 ∷ drive 3800 4 0x00000 ∷ drive 3830 2 0x00000 ∷ drive 5100 7 0x10788 ∷ drive 5290 7 0x10588 ∷ drive 5690 3 0x00200 ∷ drive 5880 7 0x10000 ∷ drive 5880 3 0x02a00 ∷ drive 6280 3 0x06a00 ∷ drive 6380 7 0x001c0 ∷ drive 6570 7 0x081c0 ∷ drive 6570 3 0x02a00 ∷ drive 6670 7 0x00000 ∷ drive 6670 3 0x00a00 ∷ drive 7070 3 0x04a00 ∷ drive 7170 7 0x00100 ∷ drive 7325 7 0x08100 ∷ drive 7325 3 0x00a00 ∷ drive 7425 7 0x00000 ∷ drive 7425 3 0x04a00 ∷ drive 7525 7 0x00100 ∷ drive 7680 7 0x08100 ∷ drive 7680 3 0x00a00 ∷ drive 7780 7 0x00000 ∷ drive 7780 3 0x04a00 ∷ drive 7880 7 0x00100 ∷ drive 8035 7 0x08100 ∷ drive 8035 3 0x00a00 ∷ drive 8135 7 0x00000 ∷ drive 8135 3 0x04a00 ∷ drive 8235 7 0x00100 ∷ drive 8390 7 0x08100 ∷ drive 8390 3 0x00a00 ∷ drive 8490 7 0x00000 ∷ drive 8490 3 0x04a00 ∷ drive 8590 7 0x00100 ∷ drive 8745 7 0x08100 ∷ drive 8745 3 0x00a00 ∷ drive 8845 7 0x00000 ∷ drive 8845 3 0x04a00 ∷ drive 8945 7 0x00100 ∷ drive 9100 7 0x08100 ∷ drive 9100 3 0x00a00 ∷ drive 9200 7 0x00000 ∷ drive 9200 3 0x01a00 ∷ drive 10000 3 0x01b00 ∷ drive 10055 3 0x05b00 ∷ drive 10155 7 0x08000 ∷ drive 10155 3 0x01a00 ∷ drive 10255 7 0x00000 ∷ drive 10255 3 0x03b00 ∷ drive 10655 3 0x07b00 ∷ drive 10755 7 0x08000 ∷ drive 10755 3 0x03a00 ∷ drive 10855 7 0x00000 ∷ drive 10855 3 0x00000 ∷ drive 12055 4 0x00210 ∷ drive 12085 2 0x00204 ∷ drive 14455 4 0x00610 ∷ drive 14485 2 0x00000 ∷ drive 15655 4 0x10718 ∷ drive 15745 4 0x10518 ∷ drive 16145 3 0x00200 ∷ drive 16235 4 0x10000 ∷ drive 16235 3 0x02a00 ∷ drive 16635 3 0x06a00 ∷ drive 16635 4 0x101c0 ∷ drive 16690 4 0x181c0 ∷ drive 16690 3 0x02a00 ∷ drive 16690 4 0x10000 ∷ drive 16690 3 0x06a00 ∷ drive 16690 4 0x10020 ∷ drive 16745 4 0x18020 ∷ drive 16745 3 0x02a00 ∷ drive 16745 4 0x10000 ∷ drive 16745 3 0x06a00 ∷ drive 16745 4 0x00001 ∷ drive 16835 4 0x08001 ∷ drive 16835 3 0x02a00 ∷ drive 16835 4 0x00000 ∷ drive 16835 3 0x00a00 ∷ drive 17235 3 0x04a00 ∷ drive 17235 4 0x00100 ∷ drive 17290 4 0x08100 ∷ drive 17290 3 0x00a00 ∷ drive 17290 4 0x00000 ∷ drive 17290 3 0x04a00 ∷ drive 17290 4 0x00100 ∷ drive 17345 4 0x08100 ∷ drive 17345 3 0x00a00 ∷ drive 17345 4 0x00000 ∷ drive 17345 3 0x04a00 ∷ drive 17345 4 0x00100 ∷ drive 17400 4 0x08100 ∷ drive 17400 3 0x00a00 ∷ drive 17400 4 0x00000 ∷ drive 17400 3 0x04a00 ∷ drive 17400 4 0x00100 ∷ drive 17455 4 0x08100 ∷ drive 17455 3 0x00a00 ∷ drive 17455 4 0x00000 ∷ drive 17455 3 0x04a00 ∷ drive 17455 4 0x00100 ∷ drive 17510 4 0x08100 ∷ drive 17510 3 0x00a00 ∷ drive 17510 4 0x00000 ∷ drive 17510 3 0x04a00 ∷ drive 17510 4 0x00100 ∷ drive 17565 4 0x08100 ∷ drive 17565 3 0x00a00 ∷ drive 17565 4 0x00000 ∷ drive 17565 3 0x01a00 ∷ drive 18365 3 0x01b00 ∷ drive 18420 3 0x05b00 ∷ drive 18420 4 0x08000 ∷ drive 18420 3 0x01a00 ∷ drive 18420 4 0x00000 ∷ drive 18420 3 0x03b00 ∷ drive 18820 3 0x07b00 ∷ drive 18820 4 0x08000 ∷ drive 18820 3 0x03a00 ∷ drive 18820 4 0x00000 ∷ drive 18820 3 0x00000 ∷ drive 20050 2 0x00204 ∷ drive 22480 2 0x00604 ∷ drive 23710 2 0x1070c ∷ drive 23830 2 0x1050c ∷ drive 24230 3 0x00200 ∷ drive 24350 2 0x10000 ∷ drive 24350 3 0x02a00 ∷ drive 24750 3 0x06a00 ∷ drive 24780 2 0x001c0 ∷ drive 24900 2 0x081c0 ∷ drive 24900 3 0x02a00 ∷ drive 24930 2 0x00000 ∷ drive 24930 3 0x00a00 ∷ drive 25330 3 0x04a00 ∷ drive 25360 2 0x00100 ∷ drive 25445 2 0x08100 ∷ drive 25445 3 0x00a00 ∷ drive 25475 2 0x00000 ∷ drive 25475 3 0x04a00 ∷ drive 25505 2 0x00100 ∷ drive 25590 2 0x08100 ∷ drive 25590 3 0x00a00 ∷ drive 25620 2 0x00000 ∷ drive 25620 3 0x04a00 ∷ drive 25650 2 0x00100 ∷ drive 25735 2 0x08100 ∷ drive 25735 3 0x00a00 ∷ drive 25765 2 0x00000 ∷ drive 25765 3 0x04a00 ∷ drive 25795 2 0x00100 ∷ drive 25880 2 0x08100 ∷ drive 25880 3 0x00a00 ∷ drive 25910 2 0x00000 ∷ drive 25910 3 0x04a00 ∷ drive 25940 2 0x00100 ∷ drive 26025 2 0x08100 ∷ drive 26025 3 0x00a00 ∷ drive 26055 2 0x00000 ∷ drive 26055 3 0x04a00 ∷ drive 26085 2 0x00100 ∷ drive 26170 2 0x08100 ∷ drive 26170 3 0x00a00 ∷ drive 26200 2 0x00000 ∷ drive 26200 3 0x01a00 ∷ drive 27000 3 0x01b00 ∷ drive 27055 3 0x05b00 ∷ drive 27085 2 0x08000 ∷ drive 27085 3 0x01a00 ∷ drive 27115 2 0x00000 ∷ drive 27115 3 0x03b00 ∷ drive 27515 3 0x07b00 ∷ drive 27545 2 0x08000 ∷ drive 27545 3 0x03a00 ∷ drive 27575 2 0x00000 ∷ drive 27575 3 0x00000 ∷ []

abbrev three_contenders_due_events : List Event
three_contenders_due_events = events.Accept (command 2) ∷ events.Run (command 2) ∷ events.End (command 2) 0 ∷ events.Accept (command 3) ∷ events.Run (command 3) ∷ events.End (command 3) 0 ∷ events.Accept (command 1) ∷ events.Run (command 1) ∷ events.End (command 1) 0 ∷ []

abbrev pub three_contenders_due_shown : Shows
three_contenders_due_shown = record { rows = reverse three_contenders_due_rows; history = reverse three_contenders_due_events; ended = true }

-- ---- two_acks_in_one_latency_due

abbrev pub two_acks_in_one_latency_due : ScenarioValue
two_acks_in_one_latency_due = record {
  version = 2;
  hosts = record { dev = 7; latency = 80; most = 1; retries = 2; period = 25; offset = 2; lag = 170; offers = true } ∷ [];
  targets = record { dev = 0; latency = 100; retries = 2; disc = policies.Never; pick = picks.First; seek = 0; period = 25; offset = 2; begins = false } ∷ [];
  units = record { target = 0; unit = 0; blocks = 1; size = 16; depth = 1 } ∷ [];
  fills = [];
  tapes = [];
  loads = [];
  commands = record { host = 7; target = 0; unit = 0; at = 0; tag = tags.Untagged; cdb = (18 ∷ 0 ∷ 0 ∷ 0 ∷ 8 ∷ 0 ∷ []); payload = payloads.Nothing } ∷ [];
  aborts = [];
  resets = [];
  faults = record { at = 17645; bit = 3 } ∷ [];
}

abbrev pub two_acks_in_one_latency_due_rows : List Row
two_acks_in_one_latency_due_rows = drive 1280 7 0x00280 ∷ drive 3760 7 0x00680 ∷ drive 5040 7 0x10781 ∷ drive 5210 7 0x10581 ∷ drive 5710 0 0x00200 ∷ drive 5880 7 0x10000 ∷ drive 5980 0 0x02a00 ∷ drive 6480 0 0x06a00 ∷ drive 6560 7 0x101c0 ∷ drive 6695 7 0x181c0 ∷ drive 6795 0 0x02a00 ∷ drive 6875 7 0x10000 ∷ drive 6975 0 0x06a00 ∷ drive 7055 7 0x10001 ∷ drive 7190 7 0x18001 ∷ drive 7290 0 0x02a00 ∷ drive 7370 7 0x10000 ∷ drive 7470 0 0x06a00 ∷ drive 7550 7 0x10103 ∷ drive 7685 7 0x18103 ∷ drive 7785 0 0x02a00 ∷ drive 7865 7 0x10000 ∷ drive 7965 0 0x06a00 ∷ drive 8045 7 0x10001 ∷ drive 8180 7 0x18001 ∷ drive 8280 0 0x02a00 ∷ drive 8360 7 0x10000 ∷ drive 8460 0 0x06a00 ∷ drive 8540 7 0x10019 ∷ drive 8675 7 0x18019 ∷ drive 8775 0 0x02a00 ∷ drive 8855 7 0x10000 ∷ drive 8955 0 0x06a00 ∷ drive 9035 7 0x00002 ∷ drive 9205 7 0x08002 ∷ drive 9305 0 0x02a00 ∷ drive 9385 7 0x00000 ∷ drive 9485 0 0x03a00 ∷ drive 10385 0 0x03a01 ∷ drive 10540 0 0x07a01 ∷ drive 10620 7 0x08000 ∷ drive 10720 0 0x03b03 ∷ drive 10800 7 0x00000 ∷ drive 10900 0 0x07b03 ∷ drive 10980 7 0x08000 ∷ drive 11080 0 0x03a01 ∷ drive 11160 7 0x00000 ∷ drive 11260 0 0x07a01 ∷ drive 11340 7 0x08000 ∷ drive 11440 0 0x03a19 ∷ drive 11520 7 0x00000 ∷ drive 11620 0 0x07a19 ∷ drive 11700 7 0x08000 ∷ drive 11800 0 0x03a02 ∷ drive 11880 7 0x00000 ∷ drive 11980 0 0x07a02 ∷ drive 12060 7 0x08000 ∷ drive 12160 0 0x03a00 ∷ drive 12240 7 0x00000 ∷ drive 12340 0 0x00a00 ∷ drive 12840 0 0x04a00 ∷ drive 12920 7 0x00112 ∷ drive 13055 7 0x08112 ∷ drive 13155 0 0x00a00 ∷ drive 13235 7 0x00000 ∷ drive 13335 0 0x04a00 ∷ drive 13415 7 0x00100 ∷ drive 13550 7 0x08100 ∷ drive 13650 0 0x00a00 ∷ drive 13730 7 0x00000 ∷ drive 13830 0 0x04a00 ∷ drive 13910 7 0x00100 ∷ drive 14045 7 0x08100 ∷ drive 14145 0 0x00a00 ∷ drive 14225 7 0x00000 ∷ drive 14325 0 0x04a00 ∷ drive 14405 7 0x00100 ∷ drive 14540 7 0x08100 ∷ drive 14640 0 0x00a00 ∷ drive 14720 7 0x00000 ∷ drive 14820 0 0x04a00 ∷ drive 14900 7 0x00008 ∷ drive 15035 7 0x08008 ∷ drive 15135 0 0x00a00 ∷ drive 15215 7 0x00000 ∷ drive 15315 0 0x04a00 ∷ drive 15395 7 0x00100 ∷ drive 15530 7 0x08100 ∷ drive 15630 0 0x00a00 ∷ drive 15710 7 0x00000 ∷ drive 15810 0 0x01200 ∷ drive 16710 0 0x01300 ∷ drive 16865 0 0x05300 ∷ drive 16995 0 0x01300 ∷ drive 17115 7 0x08000 ∷ drive 17125 0 0x05300 ∷ drive 17225 7 0x00000 ∷ drive 17255 0 0x01300 ∷ drive 17260 0 0x01202 ∷ drive 17375 7 0x08000 ∷ drive 17385 0 0x05202 ∷ drive 17485 7 0x00000 ∷ drive 17515 0 0x01202 ∷ drive 17635 7 0x08000 ∷ drive 17645 0 0x05202 ∷ strike 17645 7 3 ∷ drive 17745 7 0x00000 ∷ drive 17775 0 0x01202 ∷ drive 17780 0 0x0121f ∷ drive 17895 7 0x18000 ∷ drive 17905 0 0x0521f ∷ drive 18035 0 0x0121f ∷ drive 18040 0 0x01300 ∷ drive 18065 7 0x10000 ∷ drive 18165 0 0x05300 ∷ drive 18175 7 0x18000 ∷ drive 18285 7 0x10000 ∷ drive 18295 0 0x01300 ∷ drive 18415 7 0x18000 ∷ drive 18425 0 0x05300 ∷ drive 18525 7 0x10000 ∷ drive 18555 0 0x01300 ∷ drive 18560 0 0x01312 ∷ drive 18675 7 0x18000 ∷ drive 18685 0 0x05312 ∷ drive 18785 7 0x10000 ∷ drive 18815 0 0x01312 ∷ drive 18820 0 0x01200 ∷ drive 18935 7 0x18000 ∷ drive 19045 7 0x10000 ∷ drive 19145 0 0x02a00 ∷ drive 19645 0 0x06a00 ∷ drive 19725 7 0x00105 ∷ drive 19895 7 0x08105 ∷ drive 19995 0 0x02a00 ∷ drive 20075 7 0x00000 ∷ drive 20175 0 0x03a00 ∷ drive 21075 0 0x03b03 ∷ drive 21230 0 0x07b03 ∷ drive 21310 7 0x08000 ∷ drive 21410 0 0x03a00 ∷ drive 21490 7 0x00000 ∷ drive 21590 0 0x01300 ∷ drive 22090 0 0x05300 ∷ drive 22220 0 0x01300 ∷ drive 22340 7 0x08000 ∷ drive 22350 0 0x05300 ∷ drive 22450 7 0x00000 ∷ drive 22480 0 0x01300 ∷ drive 22485 0 0x01202 ∷ drive 22600 7 0x08000 ∷ drive 22610 0 0x05202 ∷ drive 22710 7 0x00000 ∷ drive 22740 0 0x01202 ∷ drive 22860 7 0x08000 ∷ drive 22870 0 0x05202 ∷ drive 22970 7 0x00000 ∷ drive 23000 0 0x01202 ∷ drive 23005 0 0x0121f ∷ drive 23120 7 0x08000 ∷ drive 23130 0 0x0521f ∷ drive 23230 7 0x00000 ∷ drive 23260 0 0x0121f ∷ drive 23265 0 0x01300 ∷ drive 23380 7 0x08000 ∷ drive 23390 0 0x05300 ∷ drive 23490 7 0x00000 ∷ drive 23520 0 0x01300 ∷ drive 23640 7 0x08000 ∷ drive 23650 0 0x05300 ∷ drive 23750 7 0x00000 ∷ drive 23780 0 0x01300 ∷ drive 23785 0 0x01312 ∷ drive 23900 7 0x08000 ∷ drive 23910 0 0x05312 ∷ drive 24010 7 0x00000 ∷ drive 24040 0 0x01312 ∷ drive 24045 0 0x01200 ∷ drive 24160 7 0x08000 ∷ drive 24270 7 0x00000 ∷ drive 24370 0 0x01b00 ∷ drive 24870 0 0x05b00 ∷ drive 24950 7 0x08000 ∷ drive 25050 0 0x01a00 ∷ drive 25130 7 0x00000 ∷ drive 25230 0 0x03b00 ∷ drive 25730 0 0x07b00 ∷ drive 25810 7 0x08000 ∷ drive 25910 0 0x03a00 ∷ drive 25990 7 0x00000 ∷ drive 26090 0 0x00000 ∷ []

abbrev two_acks_in_one_latency_due_events : List Event
two_acks_in_one_latency_due_events = events.Accept (command 1) ∷ events.Run (command 1) ∷ events.End (command 1) 0 ∷ []

abbrev pub two_acks_in_one_latency_due_shown : Shows
two_acks_in_one_latency_due_shown = record { rows = reverse two_acks_in_one_latency_due_rows; history = reverse two_acks_in_one_latency_due_events; ended = true }

-- ---- unanswered_due

abbrev pub unanswered_due : ScenarioValue
unanswered_due = record {
  version = 1;
  hosts = record { dev = 7; latency = 5; most = 2; retries = 1; period = 0; offset = 0; lag = 0; offers = true } ∷ [];
  targets = record { dev = 0; latency = 2; retries = 2; disc = policies.Never; pick = picks.First; seek = 0; period = 0; offset = 0; begins = false } ∷ [];
  units = record { target = 0; unit = 0; blocks = 1; size = 16; depth = 1 } ∷ [];
  fills = [];
  tapes = [];
  loads = [];
  commands = record { host = 7; target = 3; unit = 0; at = 0; tag = tags.Untagged; cdb = (0 ∷ 0 ∷ 0 ∷ 0 ∷ 0 ∷ 0 ∷ []); payload = payloads.Nothing } ∷ record { host = 7; target = 0; unit = 0; at = 0; tag = tags.Untagged; cdb = (0 ∷ 0 ∷ 0 ∷ 0 ∷ 0 ∷ 0 ∷ []); payload = payloads.Nothing } ∷ [];
  aborts = record { host = 7; target = 4; unit = 0; at = 100; what = aborts.WholeQueue } ∷ [];
  resets = [];
  faults = [];
}

abbrev pub unanswered_due_rows : List Row
unanswered_due_rows = drive 1205 7 0x00280 ∷ drive 3610 7 0x00680 ∷ drive 4815 7 0x10790 ∷ drive 4910 7 0x10590 ∷ drive 250004915 7 0x10400 ∷ drive 250205010 7 0x00000 ∷ drive 250206215 7 0x00280 ∷ drive 250208620 7 0x00680 ∷ drive 250209825 7 0x10790 ∷ drive 250209920 7 0x10590 ∷ drive 500209925 7 0x10400 ∷ drive 500410020 7 0x00000 ∷ drive 500411225 7 0x00280 ∷ drive 500413630 7 0x00680 ∷ drive 500414835 7 0x10788 ∷ drive 500414930 7 0x10588 ∷ drive 750414935 7 0x10400 ∷ drive 750615030 7 0x00000 ∷ drive 750616235 7 0x00280 ∷ drive 750618640 7 0x00680 ∷ drive 750619845 7 0x10788 ∷ drive 750619940 7 0x10588 ∷ drive 1000619945 7 0x10400 ∷ drive 1000820040 7 0x00000 ∷ drive 1000821245 7 0x00280 ∷ drive 1000823650 7 0x00680 ∷ drive 1000824855 7 0x10781 ∷ drive 1000824950 7 0x10581 ∷ drive 1000825352 0 0x00200 ∷ drive 1000825447 7 0x10000 ∷ drive 1000825449 0 0x02a00 ∷ drive 1000825851 0 0x06a00 ∷ drive 1000825856 7 0x001c0 ∷ drive 1000825951 7 0x081c0 ∷ drive 1000825953 0 0x02a00 ∷ drive 1000825958 7 0x00000 ∷ drive 1000825960 0 0x00a00 ∷ drive 1000826362 0 0x04a00 ∷ drive 1000826367 7 0x00100 ∷ drive 1000826427 7 0x08100 ∷ drive 1000826429 0 0x00a00 ∷ drive 1000826434 7 0x00000 ∷ drive 1000826436 0 0x04a00 ∷ drive 1000826441 7 0x00100 ∷ drive 1000826501 7 0x08100 ∷ drive 1000826503 0 0x00a00 ∷ drive 1000826508 7 0x00000 ∷ drive 1000826510 0 0x04a00 ∷ drive 1000826515 7 0x00100 ∷ drive 1000826575 7 0x08100 ∷ drive 1000826577 0 0x00a00 ∷ drive 1000826582 7 0x00000 ∷ drive 1000826584 0 0x04a00 ∷ drive 1000826589 7 0x00100 ∷ drive 1000826649 7 0x08100 ∷ drive 1000826651 0 0x00a00 ∷ drive 1000826656 7 0x00000 ∷ drive 1000826658 0 0x04a00 ∷ drive 1000826663 7 0x00100 ∷ drive 1000826723 7 0x08100 ∷ drive 1000826725 0 0x00a00 ∷ drive 1000826730 7 0x00000 ∷ drive 1000826732 0 0x04a00 ∷ drive 1000826737 7 0x00100 ∷ drive 1000826797 7 0x08100 ∷ drive 1000826799 0 0x00a00 ∷ drive 1000826804 7 0x00000 ∷ drive 1000826806 0 0x01a00 ∷ drive 1000827608 0 0x01b00 ∷ drive 1000827665 0 0x05b00 ∷ drive 1000827670 7 0x08000 ∷ drive 1000827672 0 0x01a00 ∷ drive 1000827677 7 0x00000 ∷ drive 1000827679 0 0x03b00 ∷ drive 1000828081 0 0x07b00 ∷ drive 1000828086 7 0x08000 ∷ drive 1000828088 0 0x03a00 ∷ drive 1000828093 7 0x00000 ∷ drive 1000828095 0 0x00000 ∷ []

abbrev unanswered_due_events : List Event
unanswered_due_events = events.Accept (command 2) ∷ events.Run (command 2) ∷ events.End (command 2) 0 ∷ []

abbrev pub unanswered_due_shown : Shows
unanswered_due_shown = record { rows = reverse unanswered_due_rows; history = reverse unanswered_due_events; ended = true }

-- ---- wide_offset_with_lag_due

abbrev pub wide_offset_with_lag_due : ScenarioValue
wide_offset_with_lag_due = record {
  version = 1;
  hosts = record { dev = 3; latency = 0; most = 1; retries = 2; period = 49; offset = 15; lag = 3000; offers = true } ∷ [];
  targets = record { dev = 1; latency = 2; retries = 2; disc = policies.Never; pick = picks.First; seek = 0; period = 26; offset = 10; begins = false } ∷ [];
  units = record { target = 1; unit = 0; blocks = 1; size = 16; depth = 1 } ∷ [];
  fills = record { target = 1; unit = 0; lba = 0; bytes = (255 ∷ 238 ∷ 221 ∷ 204 ∷ 187 ∷ 170 ∷ 153 ∷ 136 ∷ 119 ∷ 102 ∷ 85 ∷ 68 ∷ 51 ∷ 34 ∷ 17 ∷ 0 ∷ []) } ∷ [];
  tapes = [];
  loads = [];
  commands = record { host = 3; target = 1; unit = 0; at = 0; tag = tags.Untagged; cdb = (8 ∷ 0 ∷ 0 ∷ 0 ∷ 1 ∷ 0 ∷ []); payload = payloads.Nothing } ∷ [];
  aborts = [];
  resets = [];
  faults = [];
}

abbrev pub wide_offset_with_lag_due_rows : List Row
wide_offset_with_lag_due_rows = drive 1200 3 0x00208 ∷ drive 3600 3 0x00608 ∷ drive 4800 3 0x1070a ∷ drive 4890 3 0x1050a ∷ drive 5292 1 0x00200 ∷ drive 5382 3 0x10000 ∷ drive 5384 1 0x02a00 ∷ drive 5786 1 0x06a00 ∷ drive 5786 3 0x101c0 ∷ drive 5841 3 0x181c0 ∷ drive 5843 1 0x02a00 ∷ drive 5843 3 0x10000 ∷ drive 5845 1 0x06a00 ∷ drive 5845 3 0x10001 ∷ drive 5900 3 0x18001 ∷ drive 5902 1 0x02a00 ∷ drive 5902 3 0x10000 ∷ drive 5904 1 0x06a00 ∷ drive 5904 3 0x10103 ∷ drive 5959 3 0x18103 ∷ drive 5961 1 0x02a00 ∷ drive 5961 3 0x10000 ∷ drive 5963 1 0x06a00 ∷ drive 5963 3 0x10001 ∷ drive 6018 3 0x18001 ∷ drive 6020 1 0x02a00 ∷ drive 6020 3 0x10000 ∷ drive 6022 1 0x06a00 ∷ drive 6022 3 0x10031 ∷ drive 6077 3 0x18031 ∷ drive 6079 1 0x02a00 ∷ drive 6079 3 0x10000 ∷ drive 6081 1 0x06a00 ∷ drive 6081 3 0x0010f ∷ drive 6171 3 0x0810f ∷ drive 6173 1 0x02a00 ∷ drive 6173 3 0x00000 ∷ drive 6175 1 0x03a00 ∷ drive 6977 1 0x03a01 ∷ drive 7034 1 0x07a01 ∷ drive 7034 3 0x08000 ∷ drive 7036 1 0x03b03 ∷ drive 7036 3 0x00000 ∷ drive 7093 1 0x07b03 ∷ drive 7093 3 0x08000 ∷ drive 7095 1 0x03a01 ∷ drive 7095 3 0x00000 ∷ drive 7152 1 0x07a01 ∷ drive 7152 3 0x08000 ∷ drive 7154 1 0x03a31 ∷ drive 7154 3 0x00000 ∷ drive 7211 1 0x07a31 ∷ drive 7211 3 0x08000 ∷ drive 7213 1 0x03b0a ∷ drive 7213 3 0x00000 ∷ drive 7270 1 0x07b0a ∷ drive 7270 3 0x08000 ∷ drive 7272 1 0x03a00 ∷ drive 7272 3 0x00000 ∷ drive 7274 1 0x00a00 ∷ drive 7676 1 0x04a00 ∷ drive 7676 3 0x00008 ∷ drive 7731 3 0x08008 ∷ drive 7733 1 0x00a00 ∷ drive 7733 3 0x00000 ∷ drive 7735 1 0x04a00 ∷ drive 7735 3 0x00100 ∷ drive 7790 3 0x08100 ∷ drive 7792 1 0x00a00 ∷ drive 7792 3 0x00000 ∷ drive 7794 1 0x04a00 ∷ drive 7794 3 0x00100 ∷ drive 7849 3 0x08100 ∷ drive 7851 1 0x00a00 ∷ drive 7851 3 0x00000 ∷ drive 7853 1 0x04a00 ∷ drive 7853 3 0x00100 ∷ drive 7908 3 0x08100 ∷ drive 7910 1 0x00a00 ∷ drive 7910 3 0x00000 ∷ drive 7912 1 0x04a00 ∷ drive 7912 3 0x00001 ∷ drive 7967 3 0x08001 ∷ drive 7969 1 0x00a00 ∷ drive 7969 3 0x00000 ∷ drive 7971 1 0x04a00 ∷ drive 7971 3 0x00100 ∷ drive 8026 3 0x08100 ∷ drive 8028 1 0x00a00 ∷ drive 8028 3 0x00000 ∷ drive 8030 1 0x01200 ∷ drive 8832 1 0x013ff ∷ drive 8889 1 0x053ff ∷ drive 8921 1 0x013ff ∷ drive 8926 1 0x013ee ∷ drive 9087 1 0x053ee ∷ drive 9119 1 0x013ee ∷ drive 9124 1 0x013dd ∷ drive 9285 1 0x053dd ∷ drive 9317 1 0x013dd ∷ drive 9322 1 0x013cc ∷ drive 9483 1 0x053cc ∷ drive 9515 1 0x013cc ∷ drive 9520 1 0x013bb ∷ drive 9681 1 0x053bb ∷ drive 9713 1 0x013bb ∷ drive 9718 1 0x013aa ∷ drive 9879 1 0x053aa ∷ drive 9911 1 0x013aa ∷ drive 9916 1 0x01399 ∷ drive 10077 1 0x05399 ∷ drive 10109 1 0x01399 ∷ drive 10114 1 0x01388 ∷ drive 10275 1 0x05388 ∷ drive 10307 1 0x01388 ∷ drive 10312 1 0x01377 ∷ drive 10473 1 0x05377 ∷ drive 10505 1 0x01377 ∷ drive 10510 1 0x01366 ∷ drive 10671 1 0x05366 ∷ drive 10703 1 0x01366 ∷ drive 10708 1 0x01355 ∷ drive 11889 3 0x08000 ∷ drive 11891 1 0x05355 ∷ drive 11919 3 0x00000 ∷ drive 11923 1 0x01355 ∷ drive 11928 1 0x01344 ∷ drive 12087 3 0x08000 ∷ drive 12089 1 0x05344 ∷ drive 12117 3 0x00000 ∷ drive 12121 1 0x01344 ∷ drive 12126 1 0x01333 ∷ drive 12285 3 0x08000 ∷ drive 12287 1 0x05333 ∷ drive 12315 3 0x00000 ∷ drive 12319 1 0x01333 ∷ drive 12324 1 0x01322 ∷ drive 12483 3 0x08000 ∷ drive 12485 1 0x05322 ∷ drive 12513 3 0x00000 ∷ drive 12517 1 0x01322 ∷ drive 12522 1 0x01311 ∷ drive 12681 3 0x08000 ∷ drive 12683 1 0x05311 ∷ drive 12711 3 0x00000 ∷ drive 12715 1 0x01311 ∷ drive 12720 1 0x01300 ∷ drive 12879 3 0x08000 ∷ drive 12881 1 0x05300 ∷ drive 12909 3 0x00000 ∷ drive 12913 1 0x01300 ∷ drive 12918 1 0x01200 ∷ drive 13077 3 0x08000 ∷ drive 13107 3 0x00000 ∷ drive 13275 3 0x08000 ∷ drive 13305 3 0x00000 ∷ drive 13473 3 0x08000 ∷ drive 13503 3 0x00000 ∷ drive 13671 3 0x08000 ∷ drive 13701 3 0x00000 ∷ drive 14891 3 0x08000 ∷ drive 14921 3 0x00000 ∷ drive 15089 3 0x08000 ∷ drive 15119 3 0x00000 ∷ drive 15287 3 0x08000 ∷ drive 15317 3 0x00000 ∷ drive 15485 3 0x08000 ∷ drive 15515 3 0x00000 ∷ drive 15683 3 0x08000 ∷ drive 15713 3 0x00000 ∷ drive 15881 3 0x08000 ∷ drive 15911 3 0x00000 ∷ drive 15913 1 0x01b00 ∷ drive 16315 1 0x05b00 ∷ drive 16315 3 0x08000 ∷ drive 16317 1 0x01a00 ∷ drive 16317 3 0x00000 ∷ drive 16319 1 0x03b00 ∷ drive 16721 1 0x07b00 ∷ drive 16721 3 0x08000 ∷ drive 16723 1 0x03a00 ∷ drive 16723 3 0x00000 ∷ drive 16725 1 0x00000 ∷ []

abbrev wide_offset_with_lag_due_events : List Event
wide_offset_with_lag_due_events = events.Accept (command 1) ∷ events.Run (command 1) ∷ events.End (command 1) 0 ∷ []

abbrev pub wide_offset_with_lag_due_shown : Shows
wide_offset_with_lag_due_shown = record { rows = reverse wide_offset_with_lag_due_rows; history = reverse wide_offset_with_lag_due_events; ended = true }

-- ---- called_again_for_sense_due

abbrev pub called_again_for_sense_due : ScenarioValue
called_again_for_sense_due = record {
  version = 1;
  hosts = record { dev = 7; latency = 0; most = 1; retries = 0; period = 0; offset = 0; lag = 0; offers = true } ∷ [];
  targets = record { dev = 0; latency = 2; retries = 2; disc = policies.Never; pick = picks.First; seek = 0; period = 0; offset = 0; begins = false } ∷ [];
  units = record { target = 0; unit = 0; blocks = 1; size = 16; depth = 1 } ∷ [];
  fills = [];
  tapes = [];
  loads = [];
  commands = record { host = 7; target = 0; unit = 0; at = 0; tag = tags.Untagged; cdb = (8 ∷ 0 ∷ 0 ∷ 1 ∷ 1 ∷ 0 ∷ []); payload = payloads.Nothing } ∷ [];
  aborts = [];
  resets = [];
  faults = record { at = 12000; bit = 0 } ∷ [];
}

abbrev pub called_again_for_sense_due_rows : List Row
called_again_for_sense_due_rows = drive 1200 7 0x00280 ∷ drive 3600 7 0x00680 ∷ drive 4800 7 0x10781 ∷ drive 4890 7 0x10581 ∷ drive 5292 0 0x00200 ∷ drive 5382 7 0x10000 ∷ drive 5384 0 0x02a00 ∷ drive 5786 0 0x06a00 ∷ drive 5786 7 0x001c0 ∷ drive 5876 7 0x081c0 ∷ drive 5878 0 0x02a00 ∷ drive 5878 7 0x00000 ∷ drive 5880 0 0x00a00 ∷ drive 6282 0 0x04a00 ∷ drive 6282 7 0x00008 ∷ drive 6337 7 0x08008 ∷ drive 6339 0 0x00a00 ∷ drive 6339 7 0x00000 ∷ drive 6341 0 0x04a00 ∷ drive 6341 7 0x00100 ∷ drive 6396 7 0x08100 ∷ drive 6398 0 0x00a00 ∷ drive 6398 7 0x00000 ∷ drive 6400 0 0x04a00 ∷ drive 6400 7 0x00100 ∷ drive 6455 7 0x08100 ∷ drive 6457 0 0x00a00 ∷ drive 6457 7 0x00000 ∷ drive 6459 0 0x04a00 ∷ drive 6459 7 0x00001 ∷ drive 6514 7 0x08001 ∷ drive 6516 0 0x00a00 ∷ drive 6516 7 0x00000 ∷ drive 6518 0 0x04a00 ∷ drive 6518 7 0x00001 ∷ drive 6573 7 0x08001 ∷ drive 6575 0 0x00a00 ∷ drive 6575 7 0x00000 ∷ drive 6577 0 0x04a00 ∷ drive 6577 7 0x00100 ∷ drive 6632 7 0x08100 ∷ drive 6634 0 0x00a00 ∷ drive 6634 7 0x00000 ∷ drive 6636 0 0x01a00 ∷ drive 7438 0 0x01a02 ∷ drive 7495 0 0x05a02 ∷ drive 7495 7 0x08000 ∷ drive 7497 0 0x01a00 ∷ drive 7497 7 0x00000 ∷ drive 7499 0 0x03b00 ∷ drive 7901 0 0x07b00 ∷ drive 7901 7 0x08000 ∷ drive 7903 0 0x03a00 ∷ drive 7903 7 0x00000 ∷ drive 7905 0 0x00000 ∷ drive 9105 7 0x00280 ∷ drive 11505 7 0x00680 ∷ drive 12705 7 0x10781 ∷ drive 12795 7 0x10581 ∷ strike 13197 0 0 ∷ drive 250012795 7 0x10400 ∷ drive 250212885 7 0x00000 ∷ drive 250214085 7 0x00280 ∷ drive 250216485 7 0x00680 ∷ drive 250217685 7 0x10781 ∷ drive 250217775 7 0x10581 ∷ drive 250218177 0 0x00200 ∷ drive 250218267 7 0x10000 ∷ drive 250218269 0 0x02a00 ∷ drive 250218671 0 0x06a00 ∷ drive 250218671 7 0x00080 ∷ drive 250218761 7 0x08080 ∷ drive 250218763 0 0x02a00 ∷ drive 250218763 7 0x00000 ∷ drive 250218765 0 0x00a00 ∷ drive 250219167 0 0x04a00 ∷ drive 250219167 7 0x00103 ∷ drive 250219222 7 0x08103 ∷ drive 250219224 0 0x00a00 ∷ drive 250219224 7 0x00000 ∷ drive 250219226 0 0x04a00 ∷ drive 250219226 7 0x00100 ∷ drive 250219281 7 0x08100 ∷ drive 250219283 0 0x00a00 ∷ drive 250219283 7 0x00000 ∷ drive 250219285 0 0x04a00 ∷ drive 250219285 7 0x00100 ∷ drive 250219340 7 0x08100 ∷ drive 250219342 0 0x00a00 ∷ drive 250219342 7 0x00000 ∷ drive 250219344 0 0x04a00 ∷ drive 250219344 7 0x00100 ∷ drive 250219399 7 0x08100 ∷ drive 250219401 0 0x00a00 ∷ drive 250219401 7 0x00000 ∷ drive 250219403 0 0x04a00 ∷ drive 250219403 7 0x00112 ∷ drive 250219458 7 0x08112 ∷ drive 250219460 0 0x00a00 ∷ drive 250219460 7 0x00000 ∷ drive 250219462 0 0x04a00 ∷ drive 250219462 7 0x00100 ∷ drive 250219517 7 0x08100 ∷ drive 250219519 0 0x00a00 ∷ drive 250219519 7 0x00000 ∷ drive 250219521 0 0x01200 ∷ drive 250220323 0 0x01270 ∷ drive 250220380 0 0x05270 ∷ drive 250220380 7 0x08000 ∷ drive 250220382 0 0x01300 ∷ drive 250220382 7 0x00000 ∷ drive 250220439 0 0x05300 ∷ drive 250220439 7 0x08000 ∷ drive 250220441 0 0x01305 ∷ drive 250220441 7 0x00000 ∷ drive 250220498 0 0x05305 ∷ drive 250220498 7 0x08000 ∷ drive 250220500 0 0x01300 ∷ drive 250220500 7 0x00000 ∷ drive 250220557 0 0x05300 ∷ drive 250220557 7 0x08000 ∷ drive 250220559 0 0x01300 ∷ drive 250220559 7 0x00000 ∷ drive 250220616 0 0x05300 ∷ drive 250220616 7 0x08000 ∷ drive 250220618 0 0x01300 ∷ drive 250220618 7 0x00000 ∷ drive 250220675 0 0x05300 ∷ drive 250220675 7 0x08000 ∷ drive 250220677 0 0x01300 ∷ drive 250220677 7 0x00000 ∷ drive 250220734 0 0x05300 ∷ drive 250220734 7 0x08000 ∷ drive 250220736 0 0x0130a ∷ drive 250220736 7 0x00000 ∷ drive 250220793 0 0x0530a ∷ drive 250220793 7 0x08000 ∷ drive 250220795 0 0x01300 ∷ drive 250220795 7 0x00000 ∷ drive 250220852 0 0x05300 ∷ drive 250220852 7 0x08000 ∷ drive 250220854 0 0x01300 ∷ drive 250220854 7 0x00000 ∷ drive 250220911 0 0x05300 ∷ drive 250220911 7 0x08000 ∷ drive 250220913 0 0x01300 ∷ drive 250220913 7 0x00000 ∷ drive 250220970 0 0x05300 ∷ drive 250220970 7 0x08000 ∷ drive 250220972 0 0x01300 ∷ drive 250220972 7 0x00000 ∷ drive 250221029 0 0x05300 ∷ drive 250221029 7 0x08000 ∷ drive 250221031 0 0x01321 ∷ drive 250221031 7 0x00000 ∷ drive 250221088 0 0x05321 ∷ drive 250221088 7 0x08000 ∷ drive 250221090 0 0x01300 ∷ drive 250221090 7 0x00000 ∷ drive 250221147 0 0x05300 ∷ drive 250221147 7 0x08000 ∷ drive 250221149 0 0x01300 ∷ drive 250221149 7 0x00000 ∷ drive 250221206 0 0x05300 ∷ drive 250221206 7 0x08000 ∷ drive 250221208 0 0x01300 ∷ drive 250221208 7 0x00000 ∷ drive 250221265 0 0x05300 ∷ drive 250221265 7 0x08000 ∷ drive 250221267 0 0x01300 ∷ drive 250221267 7 0x00000 ∷ drive 250221324 0 0x05300 ∷ drive 250221324 7 0x08000 ∷ drive 250221326 0 0x01300 ∷ drive 250221326 7 0x00000 ∷ drive 250221383 0 0x05300 ∷ drive 250221383 7 0x08000 ∷ drive 250221385 0 0x01200 ∷ drive 250221385 7 0x00000 ∷ drive 250221387 0 0x01b00 ∷ drive 250221789 0 0x05b00 ∷ drive 250221789 7 0x08000 ∷ drive 250221791 0 0x01a00 ∷ drive 250221791 7 0x00000 ∷ drive 250221793 0 0x03b00 ∷ drive 250222195 0 0x07b00 ∷ drive 250222195 7 0x08000 ∷ drive 250222197 0 0x03a00 ∷ drive 250222197 7 0x00000 ∷ drive 250222199 0 0x00000 ∷ []

abbrev called_again_for_sense_due_events : List Event
called_again_for_sense_due_events = events.Accept (command 1) ∷ events.Run (command 1) ∷ events.End (command 1) 2 ∷ events.Accept (sense 1) ∷ events.Run (sense 1) ∷ events.End (sense 1) 0 ∷ []

abbrev pub called_again_for_sense_due_shown : Shows
called_again_for_sense_due_shown = record { rows = reverse called_again_for_sense_due_rows; history = reverse called_again_for_sense_due_events; ended = true }

-- ---- failures_due

abbrev pub failures_due : ScenarioValue
failures_due = record {
  version = 1;
  hosts = record { dev = 3; latency = 100; most = 8; retries = 0; period = 25; offset = 8; lag = 0; offers = true } ∷ [];
  targets = record { dev = 0; latency = 0; retries = 0; disc = policies.Never; pick = picks.Last; seek = 0; period = 50; offset = 8; begins = false } ∷ record { dev = 1; latency = 100; retries = 0; disc = policies.Never; pick = picks.Last; seek = 0; period = 49; offset = 8; begins = false } ∷ [];
  units = record { target = 0; unit = 0; blocks = 1; size = 32; depth = 4 } ∷ record { target = 0; unit = 6; blocks = 1; size = 32; depth = 16 } ∷ record { target = 1; unit = 4; blocks = 1; size = 32; depth = 2 } ∷ record { target = 1; unit = 7; blocks = 2; size = 32; depth = 4 } ∷ [];
  fills = record { target = 0; unit = 0; lba = 0; bytes = (243 ∷ 0 ∷ 92 ∷ 0 ∷ 50 ∷ 24 ∷ 195 ∷ 87 ∷ 111 ∷ 0 ∷ 136 ∷ 94 ∷ 0 ∷ 84 ∷ 86 ∷ 63 ∷ 217 ∷ 1 ∷ 0 ∷ 0 ∷ 148 ∷ 118 ∷ 0 ∷ 133 ∷ 226 ∷ 222 ∷ 23 ∷ 169 ∷ 0 ∷ 109 ∷ 154 ∷ 187 ∷ []) } ∷ record { target = 1; unit = 4; lba = 0; bytes = (15 ∷ 0 ∷ 64 ∷ 0 ∷ 166 ∷ 0 ∷ 91 ∷ 210 ∷ 118 ∷ 172 ∷ 124 ∷ 0 ∷ 201 ∷ 188 ∷ 63 ∷ 212 ∷ 0 ∷ 13 ∷ 124 ∷ 188 ∷ 31 ∷ 0 ∷ 0 ∷ 131 ∷ 158 ∷ 0 ∷ 157 ∷ 0 ∷ 101 ∷ 238 ∷ 166 ∷ 0 ∷ []) } ∷ record { target = 1; unit = 7; lba = 0; bytes = (0 ∷ 0 ∷ 143 ∷ 218 ∷ 64 ∷ 47 ∷ 0 ∷ 177 ∷ 0 ∷ 165 ∷ 167 ∷ 0 ∷ 230 ∷ 88 ∷ 0 ∷ 103 ∷ 0 ∷ 0 ∷ 206 ∷ 35 ∷ 0 ∷ 94 ∷ 0 ∷ 217 ∷ 54 ∷ 0 ∷ 244 ∷ 75 ∷ 233 ∷ 39 ∷ 0 ∷ 0 ∷ []) } ∷ record { target = 1; unit = 7; lba = 1; bytes = (216 ∷ 235 ∷ 0 ∷ 0 ∷ 45 ∷ 0 ∷ 66 ∷ 149 ∷ 0 ∷ 0 ∷ 0 ∷ 203 ∷ 69 ∷ 42 ∷ 9 ∷ 82 ∷ 0 ∷ 204 ∷ 24 ∷ 168 ∷ 5 ∷ 0 ∷ 192 ∷ 82 ∷ 0 ∷ 18 ∷ 139 ∷ 67 ∷ 0 ∷ 52 ∷ 0 ∷ 98 ∷ []) } ∷ [];
  tapes = [];
  loads = [];
  commands = record { host = 3; target = 1; unit = 7; at = 24081; tag = tags.Ordered 0; cdb = (10 ∷ 0 ∷ 0 ∷ 0 ∷ 2 ∷ 0 ∷ []); payload = payloads.From 227 } ∷ record { host = 3; target = 1; unit = 7; at = 19892; tag = tags.Untagged; cdb = (42 ∷ 8 ∷ 0 ∷ 0 ∷ 0 ∷ 0 ∷ 0 ∷ 0 ∷ 2 ∷ 0 ∷ []); payload = payloads.From 197 } ∷ record { host = 3; target = 0; unit = 0; at = 37; tag = tags.Simple 255; cdb = (10 ∷ 0 ∷ 0 ∷ 0 ∷ 1 ∷ 0 ∷ []); payload = payloads.From 192 } ∷ [];
  aborts = record { host = 3; target = 0; unit = 0; at = 83587; what = aborts.WholeQueue } ∷ record { host = 3; target = 0; unit = 0; at = 133964; what = aborts.WholeQueue } ∷ record { host = 3; target = 1; unit = 4; at = 83662; what = (aborts.Tag 255) } ∷ [];
  resets = record { dev = 1; at = 94094 } ∷ record { dev = 0; at = 40497 } ∷ record { dev = 0; at = 52332 } ∷ [];
  faults = record { at = 78119; bit = 0 } ∷ record { at = 95839; bit = 5 } ∷ record { at = 36691; bit = 6 } ∷ [];
}

abbrev pub failures_due_rows : List Row
failures_due_rows = drive 24181 3 0x00208 ∷ drive 26681 3 0x00608 ∷ drive 27981 3 0x1070a ∷ drive 28171 3 0x1050a ∷ drive 28671 1 0x00200 ∷ drive 28861 3 0x10000 ∷ drive 28961 1 0x02a00 ∷ drive 29461 1 0x06a00 ∷ drive 29561 3 0x100c7 ∷ drive 29716 3 0x180c7 ∷ drive 29816 1 0x02a00 ∷ drive 29916 3 0x10000 ∷ drive 30016 1 0x06a00 ∷ drive 30116 3 0x10122 ∷ drive 30271 3 0x18122 ∷ drive 30371 1 0x02a00 ∷ drive 30471 3 0x10000 ∷ drive 30571 1 0x06a00 ∷ drive 30671 3 0x10100 ∷ drive 30826 3 0x18100 ∷ drive 30926 1 0x02a00 ∷ drive 31026 3 0x10000 ∷ drive 31126 1 0x06a00 ∷ drive 31226 3 0x10001 ∷ drive 31381 3 0x18001 ∷ drive 31481 1 0x02a00 ∷ drive 31581 3 0x10000 ∷ drive 31681 1 0x06a00 ∷ drive 31781 3 0x10103 ∷ drive 31936 3 0x18103 ∷ drive 32036 1 0x02a00 ∷ drive 32136 3 0x10000 ∷ drive 32236 1 0x06a00 ∷ drive 32336 3 0x10001 ∷ drive 32491 3 0x18001 ∷ drive 32591 1 0x02a00 ∷ drive 32691 3 0x10000 ∷ drive 32791 1 0x06a00 ∷ drive 32891 3 0x10019 ∷ drive 33046 3 0x18019 ∷ drive 33146 1 0x02a00 ∷ drive 33246 3 0x10000 ∷ drive 33346 1 0x06a00 ∷ drive 33446 3 0x00008 ∷ drive 33636 3 0x08008 ∷ drive 33736 1 0x02a00 ∷ drive 33836 3 0x00000 ∷ drive 33936 1 0x03a00 ∷ drive 34836 1 0x03a01 ∷ drive 34991 1 0x07a01 ∷ drive 35091 3 0x08000 ∷ drive 35191 1 0x03b03 ∷ drive 35291 3 0x00000 ∷ drive 35391 1 0x07b03 ∷ drive 35491 3 0x08000 ∷ drive 35591 1 0x03a01 ∷ drive 35691 3 0x00000 ∷ drive 35791 1 0x07a01 ∷ drive 35891 3 0x08000 ∷ drive 35991 1 0x03a31 ∷ drive 36091 3 0x00000 ∷ drive 36191 1 0x07a31 ∷ drive 36291 3 0x08000 ∷ drive 36391 1 0x03a08 ∷ drive 36491 3 0x00000 ∷ drive 36591 1 0x07a08 ∷ drive 36691 3 0x08000 ∷ drive 36791 1 0x03a00 ∷ drive 36891 3 0x00000 ∷ drive 36991 1 0x00a00 ∷ drive 37491 1 0x04a00 ∷ drive 37591 3 0x0010a ∷ drive 37746 3 0x0810a ∷ strike 37746 1 6 ∷ drive 37846 1 0x00a00 ∷ drive 37946 3 0x00000 ∷ drive 38046 1 0x01a00 ∷ drive 38946 1 0x01a02 ∷ drive 39101 1 0x05a02 ∷ drive 39201 3 0x08000 ∷ drive 39301 1 0x01a00 ∷ drive 39401 3 0x00000 ∷ drive 39501 1 0x03b00 ∷ drive 40001 1 0x07b00 ∷ drive 40101 3 0x08000 ∷ drive 40201 1 0x03a00 ∷ drive 40301 3 0x00000 ∷ drive 40401 1 0x00000 ∷ drive 40497 0 0x20000 ∷ drive 65497 0 0x00000 ∷ drive 66797 3 0x00208 ∷ drive 69297 3 0x00608 ∷ drive 70597 3 0x1070a ∷ drive 70787 3 0x1050a ∷ drive 71287 1 0x00200 ∷ drive 71477 3 0x10000 ∷ drive 71577 1 0x02a00 ∷ drive 72077 1 0x06a00 ∷ drive 72177 3 0x000c7 ∷ drive 72367 3 0x080c7 ∷ drive 72467 1 0x02a00 ∷ drive 72567 3 0x00000 ∷ drive 72667 1 0x00a00 ∷ drive 73167 1 0x04a00 ∷ drive 73267 3 0x0002a ∷ drive 73422 3 0x0802a ∷ drive 73522 1 0x00a00 ∷ drive 73622 3 0x00000 ∷ drive 73722 1 0x04a00 ∷ drive 73822 3 0x00008 ∷ drive 73977 3 0x08008 ∷ drive 74077 1 0x00a00 ∷ drive 74177 3 0x00000 ∷ drive 74277 1 0x04a00 ∷ drive 74377 3 0x00100 ∷ drive 74532 3 0x08100 ∷ drive 74632 1 0x00a00 ∷ drive 74732 3 0x00000 ∷ drive 74832 1 0x04a00 ∷ drive 74932 3 0x00100 ∷ drive 75087 3 0x08100 ∷ drive 75187 1 0x00a00 ∷ drive 75287 3 0x00000 ∷ drive 75387 1 0x04a00 ∷ drive 75487 3 0x00100 ∷ drive 75642 3 0x08100 ∷ drive 75742 1 0x00a00 ∷ drive 75842 3 0x00000 ∷ drive 75942 1 0x04a00 ∷ drive 76042 3 0x00100 ∷ drive 76197 3 0x08100 ∷ drive 76297 1 0x00a00 ∷ drive 76397 3 0x00000 ∷ drive 76497 1 0x04a00 ∷ drive 76597 3 0x00100 ∷ drive 76752 3 0x08100 ∷ drive 76852 1 0x00a00 ∷ drive 76952 3 0x00000 ∷ drive 77052 1 0x04a00 ∷ drive 77152 3 0x00100 ∷ drive 77307 3 0x08100 ∷ drive 77407 1 0x00a00 ∷ drive 77507 3 0x00000 ∷ drive 77607 1 0x04a00 ∷ drive 77707 3 0x00002 ∷ drive 77862 3 0x08002 ∷ drive 77962 1 0x00a00 ∷ drive 78062 3 0x00000 ∷ drive 78162 1 0x04a00 ∷ drive 78262 3 0x00100 ∷ drive 78417 3 0x08100 ∷ strike 78417 1 0 ∷ drive 78517 1 0x00a00 ∷ drive 78617 3 0x00000 ∷ drive 78717 1 0x01a00 ∷ drive 79617 1 0x01a02 ∷ drive 79772 1 0x05a02 ∷ drive 79872 3 0x08000 ∷ drive 79972 1 0x01a00 ∷ drive 80072 3 0x00000 ∷ drive 80172 1 0x03b00 ∷ drive 80672 1 0x07b00 ∷ drive 80772 3 0x08000 ∷ drive 80872 1 0x03a00 ∷ drive 80972 3 0x00000 ∷ drive 81072 1 0x00000 ∷ drive 82372 3 0x00208 ∷ drive 84872 3 0x00608 ∷ drive 86172 3 0x1070a ∷ drive 86362 3 0x1050a ∷ drive 86862 1 0x00200 ∷ drive 87052 3 0x10000 ∷ drive 87152 1 0x02a00 ∷ drive 87652 1 0x06a00 ∷ drive 87752 3 0x00187 ∷ drive 87942 3 0x08187 ∷ drive 88042 1 0x02a00 ∷ drive 88142 3 0x00000 ∷ drive 88242 1 0x00a00 ∷ drive 88742 1 0x04a00 ∷ drive 88842 3 0x00103 ∷ drive 88997 3 0x08103 ∷ drive 89097 1 0x00a00 ∷ drive 89197 3 0x00000 ∷ drive 89297 1 0x04a00 ∷ drive 89397 3 0x00100 ∷ drive 89552 3 0x08100 ∷ drive 89652 1 0x00a00 ∷ drive 89752 3 0x00000 ∷ drive 89852 1 0x04a00 ∷ drive 89952 3 0x00100 ∷ drive 90107 3 0x08100 ∷ drive 90207 1 0x00a00 ∷ drive 90307 3 0x00000 ∷ drive 90407 1 0x04a00 ∷ drive 90507 3 0x00100 ∷ drive 90662 3 0x08100 ∷ drive 90762 1 0x00a00 ∷ drive 90862 3 0x00000 ∷ drive 90962 1 0x04a00 ∷ drive 91062 3 0x00112 ∷ drive 91217 3 0x08112 ∷ drive 91317 1 0x00a00 ∷ drive 91417 3 0x00000 ∷ drive 91517 1 0x04a00 ∷ drive 91617 3 0x00100 ∷ drive 91772 3 0x08100 ∷ drive 91872 1 0x00a00 ∷ drive 91972 3 0x00000 ∷ drive 92072 1 0x01200 ∷ drive 92972 1 0x01270 ∷ drive 93127 1 0x05270 ∷ drive 93227 3 0x08000 ∷ drive 93327 1 0x01300 ∷ drive 93427 3 0x00000 ∷ drive 93527 1 0x05300 ∷ drive 93627 3 0x08000 ∷ drive 93727 1 0x0120b ∷ drive 93827 3 0x00000 ∷ drive 93927 1 0x0520b ∷ drive 94027 3 0x08000 ∷ drive 94094 1 0x20000 ∷ drive 94194 3 0x00000 ∷ drive 119194 1 0x00000 ∷ drive 120494 3 0x00208 ∷ drive 122994 3 0x00608 ∷ drive 124294 3 0x10709 ∷ drive 124484 3 0x10509 ∷ strike 124884 0 5 ∷ drive 250124584 3 0x10400 ∷ drive 250324774 3 0x00000 ∷ drive 250326074 3 0x00208 ∷ drive 250328574 3 0x00608 ∷ drive 250329874 3 0x10709 ∷ drive 250330064 3 0x10509 ∷ drive 250330464 0 0x00200 ∷ drive 250330654 3 0x10000 ∷ drive 250330654 0 0x02a00 ∷ drive 250331054 0 0x06a00 ∷ drive 250331154 3 0x10080 ∷ drive 250331309 3 0x18080 ∷ drive 250331309 0 0x02a00 ∷ drive 250331409 3 0x10000 ∷ drive 250331409 0 0x06a00 ∷ drive 250331509 3 0x0000e ∷ drive 250331699 3 0x0800e ∷ drive 250331699 0 0x02a00 ∷ drive 250331799 3 0x00000 ∷ drive 250331799 0 0x00000 ∷ drive 250333099 3 0x00208 ∷ drive 250335599 3 0x00608 ∷ drive 250336899 3 0x1070a ∷ drive 250337089 3 0x1050a ∷ drive 250337589 1 0x00200 ∷ drive 250337779 3 0x10000 ∷ drive 250337879 1 0x02a00 ∷ drive 250338379 1 0x06a00 ∷ drive 250338479 3 0x10184 ∷ drive 250338634 3 0x18184 ∷ drive 250338734 1 0x02a00 ∷ drive 250338834 3 0x10000 ∷ drive 250338934 1 0x06a00 ∷ drive 250339034 3 0x10020 ∷ drive 250339189 3 0x18020 ∷ drive 250339289 1 0x02a00 ∷ drive 250339389 3 0x10000 ∷ drive 250339489 1 0x06a00 ∷ drive 250339589 3 0x101ff ∷ drive 250339744 3 0x181ff ∷ drive 250339844 1 0x02a00 ∷ drive 250339944 3 0x10000 ∷ drive 250340044 1 0x06a00 ∷ drive 250340144 3 0x0000d ∷ drive 250340334 3 0x0800d ∷ drive 250340434 1 0x02a00 ∷ drive 250340534 3 0x00000 ∷ drive 250340634 1 0x00000 ∷ drive 250341934 3 0x00208 ∷ drive 250344434 3 0x00608 ∷ drive 250345734 3 0x10709 ∷ drive 250345924 3 0x10509 ∷ drive 250346324 0 0x00200 ∷ drive 250346514 3 0x10000 ∷ drive 250346514 0 0x02a00 ∷ drive 250346914 0 0x06a00 ∷ drive 250347014 3 0x101c0 ∷ drive 250347169 3 0x181c0 ∷ drive 250347169 0 0x02a00 ∷ drive 250347269 3 0x10000 ∷ drive 250347269 0 0x06a00 ∷ drive 250347369 3 0x10020 ∷ drive 250347524 3 0x18020 ∷ drive 250347524 0 0x02a00 ∷ drive 250347624 3 0x10000 ∷ drive 250347624 0 0x06a00 ∷ drive 250347724 3 0x001ff ∷ drive 250347914 3 0x081ff ∷ drive 250347914 0 0x02a00 ∷ drive 250348014 3 0x00000 ∷ drive 250348014 0 0x00a00 ∷ drive 250348414 0 0x04a00 ∷ drive 250348514 3 0x0010a ∷ drive 250348669 3 0x0810a ∷ drive 250348669 0 0x00a00 ∷ drive 250348769 3 0x00000 ∷ drive 250348769 0 0x04a00 ∷ drive 250348869 3 0x00100 ∷ drive 250349024 3 0x08100 ∷ drive 250349024 0 0x00a00 ∷ drive 250349124 3 0x00000 ∷ drive 250349124 0 0x04a00 ∷ drive 250349224 3 0x00100 ∷ drive 250349379 3 0x08100 ∷ drive 250349379 0 0x00a00 ∷ drive 250349479 3 0x00000 ∷ drive 250349479 0 0x04a00 ∷ drive 250349579 3 0x00100 ∷ drive 250349734 3 0x08100 ∷ drive 250349734 0 0x00a00 ∷ drive 250349834 3 0x00000 ∷ drive 250349834 0 0x04a00 ∷ drive 250349934 3 0x00001 ∷ drive 250350089 3 0x08001 ∷ drive 250350089 0 0x00a00 ∷ drive 250350189 3 0x00000 ∷ drive 250350189 0 0x04a00 ∷ drive 250350289 3 0x00100 ∷ drive 250350444 3 0x08100 ∷ drive 250350444 0 0x00a00 ∷ drive 250350544 3 0x00000 ∷ drive 250350544 0 0x01a00 ∷ drive 250351344 0 0x01a02 ∷ drive 250351399 0 0x05a02 ∷ drive 250351499 3 0x08000 ∷ drive 250351499 0 0x01a00 ∷ drive 250351599 3 0x00000 ∷ drive 250351599 0 0x03b00 ∷ drive 250351999 0 0x07b00 ∷ drive 250352099 3 0x08000 ∷ drive 250352099 0 0x03a00 ∷ drive 250352199 3 0x00000 ∷ drive 250352199 0 0x00000 ∷ drive 250353499 3 0x00208 ∷ drive 250355999 3 0x00608 ∷ drive 250357299 3 0x10709 ∷ drive 250357489 3 0x10509 ∷ drive 250357889 0 0x00200 ∷ drive 250358079 3 0x10000 ∷ drive 250358079 0 0x02a00 ∷ drive 250358479 0 0x06a00 ∷ drive 250358579 3 0x00080 ∷ drive 250358769 3 0x08080 ∷ drive 250358769 0 0x02a00 ∷ drive 250358869 3 0x00000 ∷ drive 250358869 0 0x00a00 ∷ drive 250359269 0 0x04a00 ∷ drive 250359369 3 0x00103 ∷ drive 250359524 3 0x08103 ∷ drive 250359524 0 0x00a00 ∷ drive 250359624 3 0x00000 ∷ drive 250359624 0 0x04a00 ∷ drive 250359724 3 0x00100 ∷ drive 250359879 3 0x08100 ∷ drive 250359879 0 0x00a00 ∷ drive 250359979 3 0x00000 ∷ drive 250359979 0 0x04a00 ∷ drive 250360079 3 0x00100 ∷ drive 250360234 3 0x08100 ∷ drive 250360234 0 0x00a00 ∷ drive 250360334 3 0x00000 ∷ drive 250360334 0 0x04a00 ∷ drive 250360434 3 0x00100 ∷ drive 250360589 3 0x08100 ∷ drive 250360589 0 0x00a00 ∷ drive 250360689 3 0x00000 ∷ drive 250360689 0 0x04a00 ∷ drive 250360789 3 0x00112 ∷ drive 250360944 3 0x08112 ∷ drive 250360944 0 0x00a00 ∷ drive 250361044 3 0x00000 ∷ drive 250361044 0 0x04a00 ∷ drive 250361144 3 0x00100 ∷ drive 250361299 3 0x08100 ∷ drive 250361299 0 0x00a00 ∷ drive 250361399 3 0x00000 ∷ drive 250361399 0 0x01200 ∷ drive 250362199 0 0x01270 ∷ drive 250362254 0 0x05270 ∷ drive 250362354 3 0x08000 ∷ drive 250362354 0 0x01300 ∷ drive 250362454 3 0x00000 ∷ drive 250362454 0 0x05300 ∷ drive 250362554 3 0x08000 ∷ drive 250362554 0 0x01306 ∷ drive 250362654 3 0x00000 ∷ drive 250362654 0 0x05306 ∷ drive 250362754 3 0x08000 ∷ drive 250362754 0 0x01300 ∷ drive 250362854 3 0x00000 ∷ drive 250362854 0 0x05300 ∷ drive 250362954 3 0x08000 ∷ drive 250362954 0 0x01300 ∷ drive 250363054 3 0x00000 ∷ drive 250363054 0 0x05300 ∷ drive 250363154 3 0x08000 ∷ drive 250363154 0 0x01300 ∷ drive 250363254 3 0x00000 ∷ drive 250363254 0 0x05300 ∷ drive 250363354 3 0x08000 ∷ drive 250363354 0 0x01300 ∷ drive 250363454 3 0x00000 ∷ drive 250363454 0 0x05300 ∷ drive 250363554 3 0x08000 ∷ drive 250363554 0 0x0130a ∷ drive 250363654 3 0x00000 ∷ drive 250363654 0 0x0530a ∷ drive 250363754 3 0x08000 ∷ drive 250363754 0 0x01300 ∷ drive 250363854 3 0x00000 ∷ drive 250363854 0 0x05300 ∷ drive 250363954 3 0x08000 ∷ drive 250363954 0 0x01300 ∷ drive 250364054 3 0x00000 ∷ drive 250364054 0 0x05300 ∷ drive 250364154 3 0x08000 ∷ drive 250364154 0 0x01300 ∷ drive 250364254 3 0x00000 ∷ drive 250364254 0 0x05300 ∷ drive 250364354 3 0x08000 ∷ drive 250364354 0 0x01300 ∷ drive 250364454 3 0x00000 ∷ drive 250364454 0 0x05300 ∷ drive 250364554 3 0x08000 ∷ drive 250364554 0 0x01229 ∷ drive 250364654 3 0x00000 ∷ drive 250364654 0 0x05229 ∷ drive 250364754 3 0x08000 ∷ drive 250364754 0 0x01300 ∷ drive 250364854 3 0x00000 ∷ drive 250364854 0 0x05300 ∷ drive 250364954 3 0x08000 ∷ drive 250364954 0 0x01300 ∷ drive 250365054 3 0x00000 ∷ drive 250365054 0 0x05300 ∷ drive 250365154 3 0x08000 ∷ drive 250365154 0 0x01300 ∷ drive 250365254 3 0x00000 ∷ drive 250365254 0 0x05300 ∷ drive 250365354 3 0x08000 ∷ drive 250365354 0 0x01300 ∷ drive 250365454 3 0x00000 ∷ drive 250365454 0 0x05300 ∷ drive 250365554 3 0x08000 ∷ drive 250365554 0 0x01300 ∷ drive 250365654 3 0x00000 ∷ drive 250365654 0 0x05300 ∷ drive 250365754 3 0x08000 ∷ drive 250365754 0 0x01200 ∷ drive 250365854 3 0x00000 ∷ drive 250365854 0 0x01b00 ∷ drive 250366254 0 0x05b00 ∷ drive 250366354 3 0x08000 ∷ drive 250366354 0 0x01a00 ∷ drive 250366454 3 0x00000 ∷ drive 250366454 0 0x03b00 ∷ drive 250366854 0 0x07b00 ∷ drive 250366954 3 0x08000 ∷ drive 250366954 0 0x03a00 ∷ drive 250367054 3 0x00000 ∷ drive 250367054 0 0x00000 ∷ []

abbrev failures_due_events : List Event
failures_due_events = events.Fail (command 1) 71 ∷ events.End (command 1) 2 ∷ events.Reset 0 ∷ events.Fail (command 2) 71 ∷ events.End (command 2) 2 ∷ events.Accept (sense 2) ∷ events.Reset 1 ∷ events.Aborted 3 0 0 aborts.WholeQueue ∷ events.Aborted 3 1 4 (aborts.Tag 255) ∷ events.Accept (command 3) ∷ events.Run (command 3) ∷ events.End (command 3) 2 ∷ events.Accept (sense 3) ∷ events.Run (sense 3) ∷ events.End (sense 3) 0 ∷ []

abbrev pub failures_due_shown : Shows
failures_due_shown = record { rows = reverse failures_due_rows; history = reverse failures_due_events; ended = true }

-- ---- negotiation_due

abbrev pub negotiation_due : ScenarioValue
negotiation_due = record {
  version = 1;
  hosts = record { dev = 7; latency = 0; most = 1; retries = 2; period = 50; offset = 8; lag = 0; offers = true } ∷ [];
  targets = record { dev = 0; latency = 0; retries = 2; disc = policies.Never; pick = picks.First; seek = 0; period = 50; offset = 8; begins = false } ∷ [];
  units = record { target = 0; unit = 0; blocks = 1; size = 16; depth = 1 } ∷ [];
  fills = record { target = 0; unit = 0; lba = 0; bytes = (0 ∷ 1 ∷ 2 ∷ 3 ∷ 4 ∷ 5 ∷ 6 ∷ 7 ∷ 8 ∷ 9 ∷ 10 ∷ 11 ∷ 12 ∷ 13 ∷ 14 ∷ 15 ∷ []) } ∷ [];
  tapes = [];
  loads = [];
  commands = record { host = 7; target = 0; unit = 0; at = 0; tag = tags.Untagged; cdb = (8 ∷ 0 ∷ 0 ∷ 0 ∷ 1 ∷ 0 ∷ []); payload = payloads.Nothing } ∷ [];
  aborts = [];
  resets = [];
  faults = record { at = 7010; bit = 0 } ∷ [];
}

abbrev pub negotiation_due_rows : List Row
negotiation_due_rows = drive 1200 7 0x00280 ∷ drive 3600 7 0x00680 ∷ drive 4800 7 0x10781 ∷ drive 4890 7 0x10581 ∷ drive 5290 0 0x00200 ∷ drive 5380 7 0x10000 ∷ drive 5380 0 0x02a00 ∷ drive 5780 0 0x06a00 ∷ drive 5780 7 0x101c0 ∷ drive 5835 7 0x181c0 ∷ drive 5835 0 0x02a00 ∷ drive 5835 7 0x10000 ∷ drive 5835 0 0x06a00 ∷ drive 5835 7 0x10001 ∷ drive 5890 7 0x18001 ∷ drive 5890 0 0x02a00 ∷ drive 5890 7 0x10000 ∷ drive 5890 0 0x06a00 ∷ drive 5890 7 0x10103 ∷ drive 5945 7 0x18103 ∷ drive 5945 0 0x02a00 ∷ drive 5945 7 0x10000 ∷ drive 5945 0 0x06a00 ∷ drive 5945 7 0x10001 ∷ drive 6000 7 0x18001 ∷ drive 6000 0 0x02a00 ∷ drive 6000 7 0x10000 ∷ drive 6000 0 0x06a00 ∷ drive 6000 7 0x10032 ∷ drive 6055 7 0x18032 ∷ drive 6055 0 0x02a00 ∷ drive 6055 7 0x10000 ∷ drive 6055 0 0x06a00 ∷ drive 6055 7 0x00008 ∷ drive 6145 7 0x08008 ∷ drive 6145 0 0x02a00 ∷ drive 6145 7 0x00000 ∷ drive 6145 0 0x03a00 ∷ drive 6945 0 0x03a01 ∷ drive 7000 0 0x07a01 ∷ drive 7000 7 0x08000 ∷ drive 7000 0 0x03b03 ∷ drive 7000 7 0x00000 ∷ drive 7055 0 0x07b03 ∷ strike 7055 7 0 ∷ drive 7055 7 0x18000 ∷ drive 7055 0 0x03a00 ∷ drive 7145 7 0x10000 ∷ drive 7145 0 0x02a00 ∷ drive 7545 0 0x06a00 ∷ drive 7545 7 0x00109 ∷ drive 7635 7 0x08109 ∷ drive 7635 0 0x02a00 ∷ drive 7635 7 0x00000 ∷ drive 7635 0 0x03a00 ∷ drive 8435 0 0x03a01 ∷ drive 8490 0 0x07a01 ∷ drive 8490 7 0x08000 ∷ drive 8490 0 0x03b03 ∷ drive 8490 7 0x00000 ∷ drive 8545 0 0x07b03 ∷ drive 8545 7 0x08000 ∷ drive 8545 0 0x03a01 ∷ drive 8545 7 0x00000 ∷ drive 8600 0 0x07a01 ∷ drive 8600 7 0x08000 ∷ drive 8600 0 0x03a32 ∷ drive 8600 7 0x00000 ∷ drive 8655 0 0x07a32 ∷ drive 8655 7 0x08000 ∷ drive 8655 0 0x03a08 ∷ drive 8655 7 0x00000 ∷ drive 8710 0 0x07a08 ∷ drive 8710 7 0x08000 ∷ drive 8710 0 0x03a00 ∷ drive 8710 7 0x00000 ∷ drive 8710 0 0x00a00 ∷ drive 9110 0 0x04a00 ∷ drive 9110 7 0x00008 ∷ drive 9165 7 0x08008 ∷ drive 9165 0 0x00a00 ∷ drive 9165 7 0x00000 ∷ drive 9165 0 0x04a00 ∷ drive 9165 7 0x00100 ∷ drive 9220 7 0x08100 ∷ drive 9220 0 0x00a00 ∷ drive 9220 7 0x00000 ∷ drive 9220 0 0x04a00 ∷ drive 9220 7 0x00100 ∷ drive 9275 7 0x08100 ∷ drive 9275 0 0x00a00 ∷ drive 9275 7 0x00000 ∷ drive 9275 0 0x04a00 ∷ drive 9275 7 0x00100 ∷ drive 9330 7 0x08100 ∷ drive 9330 0 0x00a00 ∷ drive 9330 7 0x00000 ∷ drive 9330 0 0x04a00 ∷ drive 9330 7 0x00001 ∷ drive 9385 7 0x08001 ∷ drive 9385 0 0x00a00 ∷ drive 9385 7 0x00000 ∷ drive 9385 0 0x04a00 ∷ drive 9385 7 0x00100 ∷ drive 9440 7 0x08100 ∷ drive 9440 0 0x00a00 ∷ drive 9440 7 0x00000 ∷ drive 9440 0 0x01200 ∷ drive 10240 0 0x01300 ∷ drive 10295 0 0x05300 ∷ drive 10295 7 0x08000 ∷ drive 10385 7 0x00000 ∷ drive 10385 0 0x01300 ∷ drive 10395 0 0x01201 ∷ drive 10495 0 0x05201 ∷ drive 10495 7 0x08000 ∷ drive 10585 7 0x00000 ∷ drive 10585 0 0x01201 ∷ drive 10595 0 0x01202 ∷ drive 10695 0 0x05202 ∷ drive 10695 7 0x08000 ∷ drive 10785 7 0x00000 ∷ drive 10785 0 0x01202 ∷ drive 10795 0 0x01303 ∷ drive 10895 0 0x05303 ∷ drive 10895 7 0x08000 ∷ drive 10985 7 0x00000 ∷ drive 10985 0 0x01303 ∷ drive 10995 0 0x01204 ∷ drive 11095 0 0x05204 ∷ drive 11095 7 0x08000 ∷ drive 11185 7 0x00000 ∷ drive 11185 0 0x01204 ∷ drive 11195 0 0x01305 ∷ drive 11295 0 0x05305 ∷ drive 11295 7 0x08000 ∷ drive 11385 7 0x00000 ∷ drive 11385 0 0x01305 ∷ drive 11395 0 0x01306 ∷ drive 11495 0 0x05306 ∷ drive 11495 7 0x08000 ∷ drive 11585 7 0x00000 ∷ drive 11585 0 0x01306 ∷ drive 11595 0 0x01207 ∷ drive 11695 0 0x05207 ∷ drive 11695 7 0x08000 ∷ drive 11785 7 0x00000 ∷ drive 11785 0 0x01207 ∷ drive 11795 0 0x01208 ∷ drive 11895 0 0x05208 ∷ drive 11895 7 0x08000 ∷ drive 11985 7 0x00000 ∷ drive 11985 0 0x01208 ∷ drive 11995 0 0x01309 ∷ drive 12095 0 0x05309 ∷ drive 12095 7 0x08000 ∷ drive 12185 7 0x00000 ∷ drive 12185 0 0x01309 ∷ drive 12195 0 0x0130a ∷ drive 12295 0 0x0530a ∷ drive 12295 7 0x08000 ∷ drive 12385 7 0x00000 ∷ drive 12385 0 0x0130a ∷ drive 12395 0 0x0120b ∷ drive 12495 0 0x0520b ∷ drive 12495 7 0x08000 ∷ drive 12585 7 0x00000 ∷ drive 12585 0 0x0120b ∷ drive 12595 0 0x0130c ∷ drive 12695 0 0x0530c ∷ drive 12695 7 0x08000 ∷ drive 12785 7 0x00000 ∷ drive 12785 0 0x0130c ∷ drive 12795 0 0x0120d ∷ drive 12895 0 0x0520d ∷ drive 12895 7 0x08000 ∷ drive 12985 7 0x00000 ∷ drive 12985 0 0x0120d ∷ drive 12995 0 0x0120e ∷ drive 13095 0 0x0520e ∷ drive 13095 7 0x08000 ∷ drive 13185 7 0x00000 ∷ drive 13185 0 0x0120e ∷ drive 13195 0 0x0130f ∷ drive 13295 0 0x0530f ∷ drive 13295 7 0x08000 ∷ drive 13385 7 0x00000 ∷ drive 13385 0 0x0130f ∷ drive 13395 0 0x01200 ∷ drive 13395 0 0x01b00 ∷ drive 13795 0 0x05b00 ∷ drive 13795 7 0x08000 ∷ drive 13795 0 0x01a00 ∷ drive 13795 7 0x00000 ∷ drive 13795 0 0x03b00 ∷ drive 14195 0 0x07b00 ∷ drive 14195 7 0x08000 ∷ drive 14195 0 0x03a00 ∷ drive 14195 7 0x00000 ∷ drive 14195 0 0x00000 ∷ []

abbrev negotiation_due_events : List Event
negotiation_due_events = events.Accept (command 1) ∷ events.Run (command 1) ∷ events.End (command 1) 0 ∷ []

abbrev pub negotiation_due_shown : Shows
negotiation_due_shown = record { rows = reverse negotiation_due_rows; history = reverse negotiation_due_events; ended = true }

-- ---- read_whole_after_a_part_due

abbrev pub read_whole_after_a_part_due : ScenarioValue
read_whole_after_a_part_due = record {
  version = 1;
  hosts = record { dev = 7; latency = 0; most = 1; retries = 2; period = 0; offset = 0; lag = 0; offers = true } ∷ [];
  targets = record { dev = 0; latency = 0; retries = 2; disc = policies.NoSave 1; pick = picks.First; seek = 0; period = 0; offset = 0; begins = false } ∷ [];
  units = record { target = 0; unit = 0; blocks = 2; size = 16; depth = 1 } ∷ [];
  fills = [];
  tapes = [];
  loads = [];
  commands = record { host = 7; target = 0; unit = 0; at = 0; tag = tags.Untagged; cdb = (10 ∷ 0 ∷ 0 ∷ 0 ∷ 2 ∷ 0 ∷ []); payload = payloads.From 0 } ∷ [];
  aborts = [];
  resets = [];
  faults = [];
}

abbrev pub read_whole_after_a_part_due_rows : List Row
read_whole_after_a_part_due_rows = drive 1200 7 0x00280 ∷ drive 3600 7 0x00680 ∷ drive 4800 7 0x10781 ∷ drive 4890 7 0x10581 ∷ drive 5290 0 0x00200 ∷ drive 5380 7 0x10000 ∷ drive 5380 0 0x02a00 ∷ drive 5780 0 0x06a00 ∷ drive 5780 7 0x001c0 ∷ drive 5870 7 0x081c0 ∷ drive 5870 0 0x02a00 ∷ drive 5870 7 0x00000 ∷ drive 5870 0 0x00a00 ∷ drive 6270 0 0x04a00 ∷ drive 6270 7 0x0010a ∷ drive 6325 7 0x0810a ∷ drive 6325 0 0x00a00 ∷ drive 6325 7 0x00000 ∷ drive 6325 0 0x04a00 ∷ drive 6325 7 0x00100 ∷ drive 6380 7 0x08100 ∷ drive 6380 0 0x00a00 ∷ drive 6380 7 0x00000 ∷ drive 6380 0 0x04a00 ∷ drive 6380 7 0x00100 ∷ drive 6435 7 0x08100 ∷ drive 6435 0 0x00a00 ∷ drive 6435 7 0x00000 ∷ drive 6435 0 0x04a00 ∷ drive 6435 7 0x00100 ∷ drive 6490 7 0x08100 ∷ drive 6490 0 0x00a00 ∷ drive 6490 7 0x00000 ∷ drive 6490 0 0x04a00 ∷ drive 6490 7 0x00002 ∷ drive 6545 7 0x08002 ∷ drive 6545 0 0x00a00 ∷ drive 6545 7 0x00000 ∷ drive 6545 0 0x04a00 ∷ drive 6545 7 0x00100 ∷ drive 6600 7 0x08100 ∷ drive 6600 0 0x00a00 ∷ drive 6600 7 0x00000 ∷ drive 6600 0 0x03a00 ∷ drive 7400 0 0x03a04 ∷ drive 7455 0 0x07a04 ∷ drive 7455 7 0x08000 ∷ drive 7455 0 0x03a00 ∷ drive 7455 7 0x00000 ∷ drive 7455 0 0x00000 ∷ drive 8655 0 0x00201 ∷ drive 11055 0 0x00601 ∷ drive 12255 0 0x01781 ∷ drive 12345 0 0x01581 ∷ drive 12745 7 0x00200 ∷ drive 12745 0 0x01781 ∷ drive 12835 0 0x03a80 ∷ drive 12835 7 0x00000 ∷ drive 13235 0 0x07a80 ∷ drive 13235 7 0x08000 ∷ drive 13235 0 0x03a00 ∷ drive 13235 7 0x00000 ∷ drive 13235 0 0x00200 ∷ drive 13635 0 0x04200 ∷ drive 13635 7 0x00100 ∷ drive 13690 7 0x08100 ∷ drive 13690 0 0x00200 ∷ drive 13690 7 0x00000 ∷ drive 13690 0 0x04200 ∷ drive 13690 7 0x00001 ∷ drive 13745 7 0x08001 ∷ drive 13745 0 0x00200 ∷ drive 13745 7 0x00000 ∷ drive 13745 0 0x04200 ∷ drive 13745 7 0x00002 ∷ drive 13800 7 0x08002 ∷ drive 13800 0 0x00200 ∷ drive 13800 7 0x00000 ∷ drive 13800 0 0x04200 ∷ drive 13800 7 0x00103 ∷ drive 13855 7 0x08103 ∷ drive 13855 0 0x00200 ∷ drive 13855 7 0x00000 ∷ drive 13855 0 0x04200 ∷ drive 13855 7 0x00004 ∷ drive 13910 7 0x08004 ∷ drive 13910 0 0x00200 ∷ drive 13910 7 0x00000 ∷ drive 13910 0 0x04200 ∷ drive 13910 7 0x00105 ∷ drive 13965 7 0x08105 ∷ drive 13965 0 0x00200 ∷ drive 13965 7 0x00000 ∷ drive 13965 0 0x04200 ∷ drive 13965 7 0x00106 ∷ drive 14020 7 0x08106 ∷ drive 14020 0 0x00200 ∷ drive 14020 7 0x00000 ∷ drive 14020 0 0x04200 ∷ drive 14020 7 0x00007 ∷ drive 14075 7 0x08007 ∷ drive 14075 0 0x00200 ∷ drive 14075 7 0x00000 ∷ drive 14075 0 0x04200 ∷ drive 14075 7 0x00008 ∷ drive 14130 7 0x08008 ∷ drive 14130 0 0x00200 ∷ drive 14130 7 0x00000 ∷ drive 14130 0 0x04200 ∷ drive 14130 7 0x00109 ∷ drive 14185 7 0x08109 ∷ drive 14185 0 0x00200 ∷ drive 14185 7 0x00000 ∷ drive 14185 0 0x04200 ∷ drive 14185 7 0x0010a ∷ drive 14240 7 0x0810a ∷ drive 14240 0 0x00200 ∷ drive 14240 7 0x00000 ∷ drive 14240 0 0x04200 ∷ drive 14240 7 0x0000b ∷ drive 14295 7 0x0800b ∷ drive 14295 0 0x00200 ∷ drive 14295 7 0x00000 ∷ drive 14295 0 0x04200 ∷ drive 14295 7 0x0010c ∷ drive 14350 7 0x0810c ∷ drive 14350 0 0x00200 ∷ drive 14350 7 0x00000 ∷ drive 14350 0 0x04200 ∷ drive 14350 7 0x0000d ∷ drive 14405 7 0x0800d ∷ drive 14405 0 0x00200 ∷ drive 14405 7 0x00000 ∷ drive 14405 0 0x04200 ∷ drive 14405 7 0x0000e ∷ drive 14460 7 0x0800e ∷ drive 14460 0 0x00200 ∷ drive 14460 7 0x00000 ∷ drive 14460 0 0x04200 ∷ drive 14460 7 0x0010f ∷ drive 14515 7 0x0810f ∷ drive 14515 0 0x00200 ∷ drive 14515 7 0x00000 ∷ drive 14515 0 0x03a00 ∷ drive 15315 0 0x03a04 ∷ drive 15370 0 0x07a04 ∷ drive 15370 7 0x08000 ∷ drive 15370 0 0x03a00 ∷ drive 15370 7 0x00000 ∷ drive 15370 0 0x00000 ∷ drive 16570 0 0x00201 ∷ drive 18970 0 0x00601 ∷ drive 20170 0 0x01781 ∷ drive 20260 0 0x01581 ∷ drive 20660 7 0x00200 ∷ drive 20660 0 0x01781 ∷ drive 20750 0 0x03a80 ∷ drive 20750 7 0x00000 ∷ drive 21150 0 0x07a80 ∷ drive 21150 7 0x08000 ∷ drive 21150 0 0x03a00 ∷ drive 21150 7 0x00000 ∷ drive 21150 0 0x00200 ∷ drive 21550 0 0x04200 ∷ drive 21550 7 0x00100 ∷ drive 21605 7 0x08100 ∷ drive 21605 0 0x00200 ∷ drive 21605 7 0x00000 ∷ drive 21605 0 0x04200 ∷ drive 21605 7 0x00001 ∷ drive 21660 7 0x08001 ∷ drive 21660 0 0x00200 ∷ drive 21660 7 0x00000 ∷ drive 21660 0 0x04200 ∷ drive 21660 7 0x00002 ∷ drive 21715 7 0x08002 ∷ drive 21715 0 0x00200 ∷ drive 21715 7 0x00000 ∷ drive 21715 0 0x04200 ∷ drive 21715 7 0x00103 ∷ drive 21770 7 0x08103 ∷ drive 21770 0 0x00200 ∷ drive 21770 7 0x00000 ∷ drive 21770 0 0x04200 ∷ drive 21770 7 0x00004 ∷ drive 21825 7 0x08004 ∷ drive 21825 0 0x00200 ∷ drive 21825 7 0x00000 ∷ drive 21825 0 0x04200 ∷ drive 21825 7 0x00105 ∷ drive 21880 7 0x08105 ∷ drive 21880 0 0x00200 ∷ drive 21880 7 0x00000 ∷ drive 21880 0 0x04200 ∷ drive 21880 7 0x00106 ∷ drive 21935 7 0x08106 ∷ drive 21935 0 0x00200 ∷ drive 21935 7 0x00000 ∷ drive 21935 0 0x04200 ∷ drive 21935 7 0x00007 ∷ drive 21990 7 0x08007 ∷ drive 21990 0 0x00200 ∷ drive 21990 7 0x00000 ∷ drive 21990 0 0x04200 ∷ drive 21990 7 0x00008 ∷ drive 22045 7 0x08008 ∷ drive 22045 0 0x00200 ∷ drive 22045 7 0x00000 ∷ drive 22045 0 0x04200 ∷ drive 22045 7 0x00109 ∷ drive 22100 7 0x08109 ∷ drive 22100 0 0x00200 ∷ drive 22100 7 0x00000 ∷ drive 22100 0 0x04200 ∷ drive 22100 7 0x0010a ∷ drive 22155 7 0x0810a ∷ drive 22155 0 0x00200 ∷ drive 22155 7 0x00000 ∷ drive 22155 0 0x04200 ∷ drive 22155 7 0x0000b ∷ drive 22210 7 0x0800b ∷ drive 22210 0 0x00200 ∷ drive 22210 7 0x00000 ∷ drive 22210 0 0x04200 ∷ drive 22210 7 0x0010c ∷ drive 22265 7 0x0810c ∷ drive 22265 0 0x00200 ∷ drive 22265 7 0x00000 ∷ drive 22265 0 0x04200 ∷ drive 22265 7 0x0000d ∷ drive 22320 7 0x0800d ∷ drive 22320 0 0x00200 ∷ drive 22320 7 0x00000 ∷ drive 22320 0 0x04200 ∷ drive 22320 7 0x0000e ∷ drive 22375 7 0x0800e ∷ drive 22375 0 0x00200 ∷ drive 22375 7 0x00000 ∷ drive 22375 0 0x04200 ∷ drive 22375 7 0x0010f ∷ drive 22430 7 0x0810f ∷ drive 22430 0 0x00200 ∷ drive 22430 7 0x00000 ∷ drive 22430 0 0x04200 ∷ drive 22430 7 0x00010 ∷ drive 22485 7 0x08010 ∷ drive 22485 0 0x00200 ∷ drive 22485 7 0x00000 ∷ drive 22485 0 0x04200 ∷ drive 22485 7 0x00111 ∷ drive 22540 7 0x08111 ∷ drive 22540 0 0x00200 ∷ drive 22540 7 0x00000 ∷ drive 22540 0 0x04200 ∷ drive 22540 7 0x00112 ∷ drive 22595 7 0x08112 ∷ drive 22595 0 0x00200 ∷ drive 22595 7 0x00000 ∷ drive 22595 0 0x04200 ∷ drive 22595 7 0x00013 ∷ drive 22650 7 0x08013 ∷ drive 22650 0 0x00200 ∷ drive 22650 7 0x00000 ∷ drive 22650 0 0x04200 ∷ drive 22650 7 0x00114 ∷ drive 22705 7 0x08114 ∷ drive 22705 0 0x00200 ∷ drive 22705 7 0x00000 ∷ drive 22705 0 0x04200 ∷ drive 22705 7 0x00015 ∷ drive 22760 7 0x08015 ∷ drive 22760 0 0x00200 ∷ drive 22760 7 0x00000 ∷ drive 22760 0 0x04200 ∷ drive 22760 7 0x00016 ∷ drive 22815 7 0x08016 ∷ drive 22815 0 0x00200 ∷ drive 22815 7 0x00000 ∷ drive 22815 0 0x04200 ∷ drive 22815 7 0x00117 ∷ drive 22870 7 0x08117 ∷ drive 22870 0 0x00200 ∷ drive 22870 7 0x00000 ∷ drive 22870 0 0x04200 ∷ drive 22870 7 0x00118 ∷ drive 22925 7 0x08118 ∷ drive 22925 0 0x00200 ∷ drive 22925 7 0x00000 ∷ drive 22925 0 0x04200 ∷ drive 22925 7 0x00019 ∷ drive 22980 7 0x08019 ∷ drive 22980 0 0x00200 ∷ drive 22980 7 0x00000 ∷ drive 22980 0 0x04200 ∷ drive 22980 7 0x0001a ∷ drive 23035 7 0x0801a ∷ drive 23035 0 0x00200 ∷ drive 23035 7 0x00000 ∷ drive 23035 0 0x04200 ∷ drive 23035 7 0x0011b ∷ drive 23090 7 0x0811b ∷ drive 23090 0 0x00200 ∷ drive 23090 7 0x00000 ∷ drive 23090 0 0x04200 ∷ drive 23090 7 0x0001c ∷ drive 23145 7 0x0801c ∷ drive 23145 0 0x00200 ∷ drive 23145 7 0x00000 ∷ drive 23145 0 0x04200 ∷ drive 23145 7 0x0011d ∷ drive 23200 7 0x0811d ∷ drive 23200 0 0x00200 ∷ drive 23200 7 0x00000 ∷ drive 23200 0 0x04200 ∷ drive 23200 7 0x0011e ∷ drive 23255 7 0x0811e ∷ drive 23255 0 0x00200 ∷ drive 23255 7 0x00000 ∷ drive 23255 0 0x04200 ∷ drive 23255 7 0x0001f ∷ drive 23310 7 0x0801f ∷ drive 23310 0 0x00200 ∷ drive 23310 7 0x00000 ∷ drive 23310 0 0x01a00 ∷ drive 24110 0 0x01b00 ∷ drive 24165 0 0x05b00 ∷ drive 24165 7 0x08000 ∷ drive 24165 0 0x01a00 ∷ drive 24165 7 0x00000 ∷ drive 24165 0 0x03b00 ∷ drive 24565 0 0x07b00 ∷ drive 24565 7 0x08000 ∷ drive 24565 0 0x03a00 ∷ drive 24565 7 0x00000 ∷ drive 24565 0 0x00000 ∷ []

abbrev read_whole_after_a_part_due_events : List Event
read_whole_after_a_part_due_events = events.Accept (command 1) ∷ events.Run (command 1) ∷ events.End (command 1) 0 ∷ []

abbrev pub read_whole_after_a_part_due_shown : Shows
read_whole_after_a_part_due_shown = record { rows = reverse read_whole_after_a_part_due_rows; history = reverse read_whole_after_a_part_due_events; ended = true }

-- ---- two_aborts_due

abbrev pub two_aborts_due : ScenarioValue
two_aborts_due = record {
  version = 1;
  hosts = record { dev = 3; latency = 0; most = 1; retries = 5; period = 50; offset = 254; lag = 0; offers = true } ∷ [];
  targets = record { dev = 1; latency = 20; retries = 5; disc = policies.NoSave 2; pick = picks.First; seek = 100000; period = 25; offset = 16; begins = false } ∷ record { dev = 7; latency = 0; retries = 5; disc = policies.NoSave 2; pick = picks.First; seek = 0; period = 50; offset = 16; begins = false } ∷ record { dev = 5; latency = 10; retries = 2; disc = policies.Command; pick = picks.First; seek = 100000; period = 50; offset = 254; begins = false } ∷ record { dev = 4; latency = 0; retries = 1; disc = policies.Never; pick = picks.First; seek = 0; period = 25; offset = 16; begins = false } ∷ [];
  units = record { target = 1; unit = 5; blocks = 4; size = 32; depth = 2 } ∷ record { target = 7; unit = 0; blocks = 8; size = 32; depth = 4 } ∷ record { target = 7; unit = 1; blocks = 1; size = 32; depth = 2 } ∷ record { target = 5; unit = 1; blocks = 4; size = 32; depth = 4 } ∷ record { target = 4; unit = 7; blocks = 8; size = 32; depth = 4 } ∷ [];
  fills = record { target = 1; unit = 5; lba = 0; bytes = (0 ∷ 135 ∷ 0 ∷ 0 ∷ 168 ∷ 140 ∷ 105 ∷ 253 ∷ 144 ∷ 0 ∷ 0 ∷ 91 ∷ 50 ∷ 16 ∷ 0 ∷ 0 ∷ 0 ∷ 24 ∷ 99 ∷ 0 ∷ 151 ∷ 242 ∷ 176 ∷ 89 ∷ 0 ∷ 51 ∷ 0 ∷ 0 ∷ 1 ∷ 203 ∷ 52 ∷ 60 ∷ []) } ∷ record { target = 1; unit = 5; lba = 1; bytes = (255 ∷ 0 ∷ 0 ∷ 16 ∷ 0 ∷ 198 ∷ 167 ∷ 0 ∷ 142 ∷ 163 ∷ 73 ∷ 154 ∷ 164 ∷ 32 ∷ 0 ∷ 0 ∷ 0 ∷ 0 ∷ 245 ∷ 0 ∷ 203 ∷ 216 ∷ 0 ∷ 197 ∷ 0 ∷ 77 ∷ 0 ∷ 0 ∷ 8 ∷ 215 ∷ 0 ∷ 91 ∷ []) } ∷ record { target = 1; unit = 5; lba = 2; bytes = (0 ∷ 0 ∷ 147 ∷ 233 ∷ 154 ∷ 0 ∷ 0 ∷ 175 ∷ 0 ∷ 0 ∷ 89 ∷ 24 ∷ 86 ∷ 249 ∷ 0 ∷ 0 ∷ 141 ∷ 0 ∷ 8 ∷ 244 ∷ 0 ∷ 78 ∷ 185 ∷ 0 ∷ 0 ∷ 0 ∷ 19 ∷ 141 ∷ 170 ∷ 148 ∷ 213 ∷ 162 ∷ []) } ∷ record { target = 1; unit = 5; lba = 3; bytes = (167 ∷ 0 ∷ 34 ∷ 188 ∷ 0 ∷ 48 ∷ 85 ∷ 236 ∷ 204 ∷ 105 ∷ 0 ∷ 247 ∷ 128 ∷ 205 ∷ 110 ∷ 0 ∷ 196 ∷ 0 ∷ 78 ∷ 222 ∷ 0 ∷ 0 ∷ 0 ∷ 36 ∷ 119 ∷ 0 ∷ 0 ∷ 41 ∷ 0 ∷ 0 ∷ 0 ∷ 190 ∷ []) } ∷ record { target = 7; unit = 0; lba = 0; bytes = (92 ∷ 12 ∷ 249 ∷ 53 ∷ 0 ∷ 235 ∷ 0 ∷ 223 ∷ 114 ∷ 0 ∷ 0 ∷ 3 ∷ 117 ∷ 223 ∷ 48 ∷ 0 ∷ 32 ∷ 24 ∷ 200 ∷ 176 ∷ 0 ∷ 0 ∷ 244 ∷ 0 ∷ 61 ∷ 81 ∷ 0 ∷ 62 ∷ 0 ∷ 0 ∷ 0 ∷ 230 ∷ []) } ∷ record { target = 7; unit = 0; lba = 3; bytes = (135 ∷ 94 ∷ 0 ∷ 0 ∷ 0 ∷ 0 ∷ 143 ∷ 242 ∷ 106 ∷ 43 ∷ 194 ∷ 220 ∷ 0 ∷ 0 ∷ 0 ∷ 0 ∷ 102 ∷ 0 ∷ 97 ∷ 58 ∷ 121 ∷ 0 ∷ 0 ∷ 238 ∷ 0 ∷ 116 ∷ 51 ∷ 59 ∷ 44 ∷ 217 ∷ 160 ∷ 28 ∷ []) } ∷ record { target = 7; unit = 0; lba = 4; bytes = (113 ∷ 72 ∷ 21 ∷ 34 ∷ 0 ∷ 44 ∷ 154 ∷ 137 ∷ 246 ∷ 244 ∷ 0 ∷ 155 ∷ 132 ∷ 0 ∷ 200 ∷ 134 ∷ 82 ∷ 165 ∷ 0 ∷ 0 ∷ 196 ∷ 24 ∷ 0 ∷ 192 ∷ 159 ∷ 0 ∷ 0 ∷ 36 ∷ 184 ∷ 234 ∷ 55 ∷ 0 ∷ []) } ∷ record { target = 7; unit = 0; lba = 5; bytes = (0 ∷ 0 ∷ 98 ∷ 0 ∷ 174 ∷ 188 ∷ 0 ∷ 243 ∷ 0 ∷ 0 ∷ 0 ∷ 0 ∷ 107 ∷ 33 ∷ 0 ∷ 12 ∷ 236 ∷ 0 ∷ 6 ∷ 93 ∷ 195 ∷ 70 ∷ 112 ∷ 73 ∷ 242 ∷ 2 ∷ 51 ∷ 229 ∷ 160 ∷ 0 ∷ 33 ∷ 68 ∷ []) } ∷ record { target = 7; unit = 0; lba = 6; bytes = (91 ∷ 0 ∷ 145 ∷ 0 ∷ 0 ∷ 0 ∷ 56 ∷ 0 ∷ 0 ∷ 136 ∷ 113 ∷ 22 ∷ 0 ∷ 69 ∷ 0 ∷ 0 ∷ 0 ∷ 32 ∷ 167 ∷ 0 ∷ 34 ∷ 0 ∷ 132 ∷ 16 ∷ 0 ∷ 45 ∷ 0 ∷ 123 ∷ 0 ∷ 22 ∷ 0 ∷ 45 ∷ []) } ∷ record { target = 5; unit = 1; lba = 3; bytes = (0 ∷ 83 ∷ 0 ∷ 0 ∷ 0 ∷ 114 ∷ 226 ∷ 40 ∷ 0 ∷ 48 ∷ 111 ∷ 0 ∷ 233 ∷ 91 ∷ 35 ∷ 53 ∷ 239 ∷ 0 ∷ 0 ∷ 0 ∷ 0 ∷ 189 ∷ 0 ∷ 105 ∷ 191 ∷ 194 ∷ 0 ∷ 0 ∷ 146 ∷ 68 ∷ 112 ∷ 0 ∷ []) } ∷ record { target = 4; unit = 7; lba = 0; bytes = (0 ∷ 0 ∷ 0 ∷ 0 ∷ 85 ∷ 136 ∷ 163 ∷ 96 ∷ 0 ∷ 249 ∷ 249 ∷ 52 ∷ 86 ∷ 0 ∷ 179 ∷ 214 ∷ 201 ∷ 0 ∷ 0 ∷ 0 ∷ 240 ∷ 36 ∷ 61 ∷ 0 ∷ 0 ∷ 230 ∷ 0 ∷ 187 ∷ 86 ∷ 0 ∷ 204 ∷ 7 ∷ []) } ∷ record { target = 4; unit = 7; lba = 1; bytes = (0 ∷ 63 ∷ 91 ∷ 16 ∷ 241 ∷ 0 ∷ 140 ∷ 132 ∷ 76 ∷ 0 ∷ 0 ∷ 8 ∷ 0 ∷ 222 ∷ 0 ∷ 0 ∷ 125 ∷ 0 ∷ 252 ∷ 228 ∷ 0 ∷ 0 ∷ 248 ∷ 50 ∷ 0 ∷ 0 ∷ 140 ∷ 114 ∷ 42 ∷ 0 ∷ 218 ∷ 30 ∷ []) } ∷ record { target = 4; unit = 7; lba = 2; bytes = (155 ∷ 91 ∷ 0 ∷ 0 ∷ 229 ∷ 241 ∷ 170 ∷ 7 ∷ 142 ∷ 0 ∷ 177 ∷ 0 ∷ 0 ∷ 134 ∷ 226 ∷ 60 ∷ 0 ∷ 17 ∷ 0 ∷ 54 ∷ 0 ∷ 35 ∷ 75 ∷ 69 ∷ 0 ∷ 0 ∷ 62 ∷ 46 ∷ 114 ∷ 0 ∷ 0 ∷ 0 ∷ []) } ∷ record { target = 4; unit = 7; lba = 3; bytes = (60 ∷ 196 ∷ 109 ∷ 40 ∷ 0 ∷ 122 ∷ 68 ∷ 0 ∷ 29 ∷ 178 ∷ 0 ∷ 0 ∷ 0 ∷ 44 ∷ 0 ∷ 0 ∷ 244 ∷ 155 ∷ 167 ∷ 6 ∷ 200 ∷ 88 ∷ 0 ∷ 118 ∷ 0 ∷ 230 ∷ 215 ∷ 65 ∷ 0 ∷ 0 ∷ 231 ∷ 117 ∷ []) } ∷ record { target = 4; unit = 7; lba = 5; bytes = (154 ∷ 58 ∷ 0 ∷ 117 ∷ 0 ∷ 0 ∷ 139 ∷ 205 ∷ 0 ∷ 0 ∷ 0 ∷ 163 ∷ 180 ∷ 67 ∷ 41 ∷ 0 ∷ 0 ∷ 30 ∷ 45 ∷ 69 ∷ 158 ∷ 232 ∷ 0 ∷ 150 ∷ 251 ∷ 184 ∷ 0 ∷ 23 ∷ 202 ∷ 135 ∷ 42 ∷ 19 ∷ []) } ∷ record { target = 4; unit = 7; lba = 6; bytes = (170 ∷ 0 ∷ 0 ∷ 20 ∷ 90 ∷ 177 ∷ 94 ∷ 139 ∷ 92 ∷ 223 ∷ 0 ∷ 0 ∷ 0 ∷ 144 ∷ 37 ∷ 92 ∷ 74 ∷ 0 ∷ 166 ∷ 0 ∷ 137 ∷ 103 ∷ 0 ∷ 66 ∷ 215 ∷ 249 ∷ 216 ∷ 0 ∷ 0 ∷ 0 ∷ 0 ∷ 124 ∷ []) } ∷ [];
  tapes = [];
  loads = [];
  commands = record { host = 3; target = 7; unit = 0; at = 89108; tag = tags.Simple 255; cdb = (8 ∷ 2 ∷ 0 ∷ 0 ∷ 1 ∷ 0 ∷ []); payload = payloads.Nothing } ∷ [];
  aborts = record { host = 3; target = 1; unit = 2; at = 103123; what = (aborts.Tag 2) } ∷ record { host = 3; target = 4; unit = 7; at = 111568; what = aborts.Device } ∷ [];
  resets = [];
  faults = record { at = 112768; bit = 5 } ∷ record { at = 113368; bit = 7 } ∷ record { at = 93698; bit = 5 } ∷ [];
}

abbrev pub two_aborts_due_rows : List Row
two_aborts_due_rows = drive 89108 3 0x00208 ∷ drive 91508 3 0x00608 ∷ drive 92708 3 0x10788 ∷ drive 92798 3 0x10588 ∷ drive 93198 7 0x00200 ∷ drive 93288 3 0x10000 ∷ drive 93288 7 0x02a00 ∷ drive 93688 7 0x06a00 ∷ drive 93688 3 0x101c0 ∷ drive 93743 3 0x181c0 ∷ strike 93743 7 5 ∷ drive 93743 7 0x02a00 ∷ drive 93743 3 0x10000 ∷ drive 93743 7 0x06a00 ∷ drive 93743 3 0x10020 ∷ drive 93798 3 0x18020 ∷ drive 93798 7 0x02a00 ∷ drive 93798 3 0x10000 ∷ drive 93798 7 0x06a00 ∷ drive 93798 3 0x101ff ∷ drive 93853 3 0x181ff ∷ drive 93853 7 0x02a00 ∷ drive 93853 3 0x10000 ∷ drive 93853 7 0x06a00 ∷ drive 93853 3 0x10001 ∷ drive 93908 3 0x18001 ∷ drive 93908 7 0x02a00 ∷ drive 93908 3 0x10000 ∷ drive 93908 7 0x06a00 ∷ drive 93908 3 0x10103 ∷ drive 93963 3 0x18103 ∷ drive 93963 7 0x02a00 ∷ drive 93963 3 0x10000 ∷ drive 93963 7 0x06a00 ∷ drive 93963 3 0x10001 ∷ drive 94018 3 0x18001 ∷ drive 94018 7 0x02a00 ∷ drive 94018 3 0x10000 ∷ drive 94018 7 0x06a00 ∷ drive 94018 3 0x10032 ∷ drive 94073 3 0x18032 ∷ drive 94073 7 0x02a00 ∷ drive 94073 3 0x10000 ∷ drive 94073 7 0x06a00 ∷ drive 94073 3 0x000fe ∷ drive 94163 3 0x080fe ∷ drive 94163 7 0x02a00 ∷ drive 94163 3 0x00000 ∷ drive 94163 7 0x06a00 ∷ drive 94163 3 0x101c0 ∷ drive 94253 3 0x181c0 ∷ drive 94253 7 0x02a00 ∷ drive 94253 3 0x10000 ∷ drive 94253 7 0x06a00 ∷ drive 94253 3 0x10020 ∷ drive 94308 3 0x18020 ∷ drive 94308 7 0x02a00 ∷ drive 94308 3 0x10000 ∷ drive 94308 7 0x06a00 ∷ drive 94308 3 0x101ff ∷ drive 94363 3 0x181ff ∷ drive 94363 7 0x02a00 ∷ drive 94363 3 0x10000 ∷ drive 94363 7 0x06a00 ∷ drive 94363 3 0x10001 ∷ drive 94418 3 0x18001 ∷ drive 94418 7 0x02a00 ∷ drive 94418 3 0x10000 ∷ drive 94418 7 0x06a00 ∷ drive 94418 3 0x10103 ∷ drive 94473 3 0x18103 ∷ drive 94473 7 0x02a00 ∷ drive 94473 3 0x10000 ∷ drive 94473 7 0x06a00 ∷ drive 94473 3 0x10001 ∷ drive 94528 3 0x18001 ∷ drive 94528 7 0x02a00 ∷ drive 94528 3 0x10000 ∷ drive 94528 7 0x06a00 ∷ drive 94528 3 0x10032 ∷ drive 94583 3 0x18032 ∷ drive 94583 7 0x02a00 ∷ drive 94583 3 0x10000 ∷ drive 94583 7 0x06a00 ∷ drive 94583 3 0x000fe ∷ drive 94673 3 0x080fe ∷ drive 94673 7 0x02a00 ∷ drive 94673 3 0x00000 ∷ drive 94673 7 0x03a00 ∷ drive 95473 7 0x03a01 ∷ drive 95528 7 0x07a01 ∷ drive 95528 3 0x08000 ∷ drive 95528 7 0x03b03 ∷ drive 95528 3 0x00000 ∷ drive 95583 7 0x07b03 ∷ drive 95583 3 0x08000 ∷ drive 95583 7 0x03a01 ∷ drive 95583 3 0x00000 ∷ drive 95638 7 0x07a01 ∷ drive 95638 3 0x08000 ∷ drive 95638 7 0x03a32 ∷ drive 95638 3 0x00000 ∷ drive 95693 7 0x07a32 ∷ drive 95693 3 0x08000 ∷ drive 95693 7 0x03a10 ∷ drive 95693 3 0x00000 ∷ drive 95748 7 0x07a10 ∷ drive 95748 3 0x08000 ∷ drive 95748 7 0x03a00 ∷ drive 95748 3 0x00000 ∷ drive 95748 7 0x00a00 ∷ drive 96148 7 0x04a00 ∷ drive 96148 3 0x00008 ∷ drive 96203 3 0x08008 ∷ drive 96203 7 0x00a00 ∷ drive 96203 3 0x00000 ∷ drive 96203 7 0x04a00 ∷ drive 96203 3 0x00002 ∷ drive 96258 3 0x08002 ∷ drive 96258 7 0x00a00 ∷ drive 96258 3 0x00000 ∷ drive 96258 7 0x04a00 ∷ drive 96258 3 0x00100 ∷ drive 96313 3 0x08100 ∷ drive 96313 7 0x00a00 ∷ drive 96313 3 0x00000 ∷ drive 96313 7 0x04a00 ∷ drive 96313 3 0x00100 ∷ drive 96368 3 0x08100 ∷ drive 96368 7 0x00a00 ∷ drive 96368 3 0x00000 ∷ drive 96368 7 0x04a00 ∷ drive 96368 3 0x00001 ∷ drive 96423 3 0x08001 ∷ drive 96423 7 0x00a00 ∷ drive 96423 3 0x00000 ∷ drive 96423 7 0x04a00 ∷ drive 96423 3 0x00100 ∷ drive 96478 3 0x08100 ∷ drive 96478 7 0x00a00 ∷ drive 96478 3 0x00000 ∷ drive 96478 7 0x03a00 ∷ drive 97278 7 0x03a04 ∷ drive 97333 7 0x07a04 ∷ drive 97333 3 0x08000 ∷ drive 97333 7 0x03a00 ∷ drive 97333 3 0x00000 ∷ drive 97333 7 0x00000 ∷ drive 98533 7 0x00280 ∷ drive 100933 7 0x00680 ∷ drive 102133 7 0x01788 ∷ drive 102223 7 0x01588 ∷ drive 102623 3 0x00200 ∷ drive 102623 7 0x01788 ∷ drive 102713 7 0x03a80 ∷ drive 102713 3 0x00000 ∷ drive 103113 7 0x07a80 ∷ drive 103113 3 0x08000 ∷ drive 103113 7 0x03a20 ∷ drive 103113 3 0x00000 ∷ drive 103168 7 0x07a20 ∷ drive 103168 3 0x08000 ∷ drive 103168 7 0x03bff ∷ drive 103168 3 0x00000 ∷ drive 103223 7 0x07bff ∷ drive 103223 3 0x08000 ∷ drive 103223 7 0x03a00 ∷ drive 103223 3 0x00000 ∷ drive 103223 7 0x01a02 ∷ drive 103623 7 0x05a02 ∷ drive 103623 3 0x08000 ∷ drive 103623 7 0x01a00 ∷ drive 103623 3 0x00000 ∷ drive 103623 7 0x03b00 ∷ drive 104023 7 0x07b00 ∷ drive 104023 3 0x08000 ∷ drive 104023 7 0x03a00 ∷ drive 104023 3 0x00000 ∷ drive 104023 7 0x00000 ∷ drive 105223 3 0x00208 ∷ drive 107623 3 0x00608 ∷ drive 108823 3 0x1070a ∷ drive 108913 3 0x1050a ∷ drive 109333 1 0x00200 ∷ drive 109423 3 0x10000 ∷ drive 109443 1 0x02a00 ∷ drive 109863 1 0x06a00 ∷ drive 109863 3 0x10182 ∷ drive 109918 3 0x18182 ∷ drive 109938 1 0x02a00 ∷ drive 109938 3 0x10000 ∷ drive 109958 1 0x06a00 ∷ drive 109958 3 0x10020 ∷ drive 110013 3 0x18020 ∷ drive 110033 1 0x02a00 ∷ drive 110033 3 0x10000 ∷ drive 110053 1 0x06a00 ∷ drive 110053 3 0x10002 ∷ drive 110108 3 0x18002 ∷ drive 110128 1 0x02a00 ∷ drive 110128 3 0x10000 ∷ drive 110148 1 0x06a00 ∷ drive 110148 3 0x0000d ∷ drive 110238 3 0x0800d ∷ drive 110258 1 0x02a00 ∷ drive 110258 3 0x00000 ∷ drive 110278 1 0x00000 ∷ drive 111478 3 0x00208 ∷ drive 113878 3 0x00608 ∷ drive 115078 3 0x10788 ∷ drive 115168 3 0x10588 ∷ strike 115568 7 5 ∷ drive 250115168 3 0x10400 ∷ drive 250315258 3 0x00000 ∷ drive 250316458 3 0x00208 ∷ drive 250318858 3 0x00608 ∷ drive 250320058 3 0x10718 ∷ drive 250320148 3 0x10518 ∷ strike 250320548 4 7 ∷ drive 500320148 3 0x10400 ∷ drive 500520238 3 0x00000 ∷ drive 500521438 3 0x00208 ∷ drive 500523838 3 0x00608 ∷ drive 500525038 3 0x10718 ∷ drive 500525128 3 0x10518 ∷ drive 500525528 4 0x00200 ∷ drive 500525618 3 0x10000 ∷ drive 500525618 4 0x02a00 ∷ drive 500526018 4 0x06a00 ∷ drive 500526018 3 0x10187 ∷ drive 500526073 3 0x18187 ∷ drive 500526073 4 0x02a00 ∷ drive 500526073 3 0x10000 ∷ drive 500526073 4 0x06a00 ∷ drive 500526073 3 0x0010c ∷ drive 500526163 3 0x0810c ∷ drive 500526163 4 0x02a00 ∷ drive 500526163 3 0x00000 ∷ drive 500526163 4 0x00000 ∷ drive 500527363 3 0x00208 ∷ drive 500529763 3 0x00608 ∷ drive 500530963 3 0x10788 ∷ drive 500531053 3 0x10588 ∷ drive 500531453 7 0x00200 ∷ drive 500531543 3 0x10000 ∷ drive 500531543 7 0x02a00 ∷ drive 500531943 7 0x06a00 ∷ drive 500531943 3 0x00080 ∷ drive 500532033 3 0x08080 ∷ drive 500532033 7 0x02a00 ∷ drive 500532033 3 0x00000 ∷ drive 500532033 7 0x00a00 ∷ drive 500532433 7 0x04a00 ∷ drive 500532433 3 0x00103 ∷ drive 500532488 3 0x08103 ∷ drive 500532488 7 0x00a00 ∷ drive 500532488 3 0x00000 ∷ drive 500532488 7 0x04a00 ∷ drive 500532488 3 0x00100 ∷ drive 500532543 3 0x08100 ∷ drive 500532543 7 0x00a00 ∷ drive 500532543 3 0x00000 ∷ drive 500532543 7 0x04a00 ∷ drive 500532543 3 0x00100 ∷ drive 500532598 3 0x08100 ∷ drive 500532598 7 0x00a00 ∷ drive 500532598 3 0x00000 ∷ drive 500532598 7 0x04a00 ∷ drive 500532598 3 0x00100 ∷ drive 500532653 3 0x08100 ∷ drive 500532653 7 0x00a00 ∷ drive 500532653 3 0x00000 ∷ drive 500532653 7 0x04a00 ∷ drive 500532653 3 0x00112 ∷ drive 500532708 3 0x08112 ∷ drive 500532708 7 0x00a00 ∷ drive 500532708 3 0x00000 ∷ drive 500532708 7 0x04a00 ∷ drive 500532708 3 0x00100 ∷ drive 500532763 3 0x08100 ∷ drive 500532763 7 0x00a00 ∷ drive 500532763 3 0x00000 ∷ drive 500532763 7 0x01200 ∷ drive 500533563 7 0x01270 ∷ drive 500533618 7 0x05270 ∷ drive 500533618 3 0x08000 ∷ drive 500533708 7 0x01270 ∷ drive 500533708 3 0x00000 ∷ drive 500533718 7 0x01300 ∷ drive 500533818 7 0x05300 ∷ drive 500533818 3 0x08000 ∷ drive 500533908 7 0x01300 ∷ drive 500533908 3 0x00000 ∷ drive 500533918 7 0x01305 ∷ drive 500534018 7 0x05305 ∷ drive 500534018 3 0x08000 ∷ drive 500534108 7 0x01305 ∷ drive 500534108 3 0x00000 ∷ drive 500534118 7 0x01300 ∷ drive 500534218 7 0x05300 ∷ drive 500534218 3 0x08000 ∷ drive 500534308 7 0x01300 ∷ drive 500534308 3 0x00000 ∷ drive 500534418 7 0x05300 ∷ drive 500534418 3 0x08000 ∷ drive 500534508 7 0x01300 ∷ drive 500534508 3 0x00000 ∷ drive 500534618 7 0x05300 ∷ drive 500534618 3 0x08000 ∷ drive 500534708 7 0x01300 ∷ drive 500534708 3 0x00000 ∷ drive 500534818 7 0x05300 ∷ drive 500534818 3 0x08000 ∷ drive 500534908 7 0x01300 ∷ drive 500534908 3 0x00000 ∷ drive 500534918 7 0x0130a ∷ drive 500535018 7 0x0530a ∷ drive 500535018 3 0x08000 ∷ drive 500535108 7 0x0130a ∷ drive 500535108 3 0x00000 ∷ drive 500535118 7 0x01300 ∷ drive 500535218 7 0x05300 ∷ drive 500535218 3 0x08000 ∷ drive 500535308 7 0x01300 ∷ drive 500535308 3 0x00000 ∷ drive 500535418 7 0x05300 ∷ drive 500535418 3 0x08000 ∷ drive 500535508 7 0x01300 ∷ drive 500535508 3 0x00000 ∷ drive 500535618 7 0x05300 ∷ drive 500535618 3 0x08000 ∷ drive 500535708 7 0x01300 ∷ drive 500535708 3 0x00000 ∷ drive 500535818 7 0x05300 ∷ drive 500535818 3 0x08000 ∷ drive 500535908 7 0x01300 ∷ drive 500535908 3 0x00000 ∷ drive 500535918 7 0x01321 ∷ drive 500536018 7 0x05321 ∷ drive 500536018 3 0x08000 ∷ drive 500536108 7 0x01321 ∷ drive 500536108 3 0x00000 ∷ drive 500536118 7 0x01300 ∷ drive 500536218 7 0x05300 ∷ drive 500536218 3 0x08000 ∷ drive 500536308 7 0x01300 ∷ drive 500536308 3 0x00000 ∷ drive 500536418 7 0x05300 ∷ drive 500536418 3 0x08000 ∷ drive 500536508 7 0x01300 ∷ drive 500536508 3 0x00000 ∷ drive 500536618 7 0x05300 ∷ drive 500536618 3 0x08000 ∷ drive 500536708 7 0x01300 ∷ drive 500536708 3 0x00000 ∷ drive 500536818 7 0x05300 ∷ drive 500536818 3 0x08000 ∷ drive 500536908 7 0x01300 ∷ drive 500536908 3 0x00000 ∷ drive 500537018 7 0x05300 ∷ drive 500537018 3 0x08000 ∷ drive 500537108 7 0x01300 ∷ drive 500537108 3 0x00000 ∷ drive 500537118 7 0x01200 ∷ drive 500537118 7 0x01b00 ∷ drive 500537518 7 0x05b00 ∷ drive 500537518 3 0x08000 ∷ drive 500537518 7 0x01a00 ∷ drive 500537518 3 0x00000 ∷ drive 500537518 7 0x03b00 ∷ drive 500537918 7 0x07b00 ∷ drive 500537918 3 0x08000 ∷ drive 500537918 7 0x03a00 ∷ drive 500537918 3 0x00000 ∷ drive 500537918 7 0x00000 ∷ []

abbrev two_aborts_due_events : List Event
two_aborts_due_events = events.Accept (command 1) ∷ events.Run (command 1) ∷ events.End (command 1) 2 ∷ events.Aborted 3 1 2 (aborts.Tag 2) ∷ events.Aborted 3 4 7 aborts.Device ∷ events.Accept (sense 1) ∷ events.Run (sense 1) ∷ events.End (sense 1) 0 ∷ []

abbrev pub two_aborts_due_shown : Shows
two_aborts_due_shown = record { rows = reverse two_aborts_due_rows; history = reverse two_aborts_due_events; ended = true }
