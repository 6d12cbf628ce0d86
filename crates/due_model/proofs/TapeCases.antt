-- Whole runs: their scenarios, and the rows and histories of their reports, which an independent simulator printed.
-- Written by tools/makers/due_case.py.
use Rattle.bus_rules.specs.bus_trace.specs.LineSet.{set_of}
use Rattle.bus_rules.specs.bus_trace.specs.declared.Row.{Row}
use Rattle.bus_rules.specs.bus_trace.specs.declared.Kind.TheVariants.{Drives, Fault}
use Rattle.due_model.specs.Run.{Run, history_of}
use Rattle.std.proofs.Common.{ℕ, Bool, true, false, List, [], ◌∷◌, reverse}
use Rattle.bus_rules.specs.bus_base.specs.declared.ProcId.{ProcId}
use Rattle.bus_rules.specs.bus_base.specs.declared.AbortKind.TheVariants as aborts
use Rattle.bus_rules.specs.bus_base.specs.declared.Event.{Event}
use Rattle.bus_rules.specs.bus_base.specs.declared.Event.TheVariants as events
use Rattle.bus_rules.specs.bus_base.specs.declared.events.Pick.TheVariants as picks
use Rattle.dialogue_model.specs.scenario.specs.declared.value.Policy.TheVariants as policies
use Rattle.dialogue_model.specs.scenario.specs.declared.value.Load.TheVariants as loads
use Rattle.dialogue_model.specs.scenario.specs.declared.value.Tag.TheVariants as tags
use Rattle.dialogue_model.specs.scenario.specs.declared.value.Payload.TheVariants as payloads
use Rattle.dialogue_model.specs.scenario.specs.Value.{ScenarioValue}

abbrev drive : ℕ → ℕ → ℕ → Row
drive time dev lines = record { time = time; dev = dev; kind = Drives (set_of lines) }

abbrev strike : ℕ → ℕ → ℕ → Row
strike time dev bit = record { time = time; dev = dev; kind = Fault bit }

-- What a report shows of a run: its rows, its history, and that it is over.
pub record Shows : Type 0 where
  pub rows : List Row
  pub history : List Event
  pub ended : Bool

abbrev pub shown : Run → Shows
shown r = record { rows = r.rows; history = history_of r; ended = r.ended }

abbrev command : ℕ → ProcId
command n = record { command = n; sense = false }

abbrev sense : ℕ → ProcId
sense n = record { command = n; sense = true }

-- ---- room_known_late_due

abbrev pub room_known_late_due : ScenarioValue
room_known_late_due = record {
  version = 3;
  hosts = record { dev = 7; latency = 0; most = 5; retries = 2; period = 0; offset = 0; lag = 0; offers = true } ∷ [];
  targets = record { dev = 0; latency = 0; retries = 2; disc = policies.Command; pick = picks.First; seek = 30000; period = 0; offset = 0; begins = false } ∷ [];
  units = [];
  fills = [];
  tapes = record { target = 0; unit = 0; objects = 4; size = 16; depth = 8 } ∷ [];
  loads = [];
  commands = record { host = 7; target = 0; unit = 0; at = 0; tag = tags.Simple 1; cdb = (10 ∷ 1 ∷ 0 ∷ 0 ∷ 3 ∷ 0 ∷ []); payload = payloads.From 0 } ∷ record { host = 7; target = 0; unit = 0; at = 0; tag = tags.Simple 2; cdb = (10 ∷ 1 ∷ 0 ∷ 0 ∷ 2 ∷ 0 ∷ []); payload = payloads.From 0 } ∷ [];
  aborts = [];
  resets = [];
  faults = [];
}

abbrev pub room_known_late_due_rows : List Row
room_known_late_due_rows = drive 1200 7 0x00280 ∷ drive 3600 7 0x00680 ∷ drive 4800 7 0x10781 ∷ drive 4890 7 0x10581 ∷ drive 5290 0 0x00200 ∷ drive 5380 7 0x10000 ∷ drive 5380 0 0x02a00 ∷ drive 5780 0 0x06a00 ∷ drive 5780 7 0x101c0 ∷ drive 5835 7 0x181c0 ∷ drive 5835 0 0x02a00 ∷ drive 5835 7 0x10000 ∷ drive 5835 0 0x06a00 ∷ drive 5835 7 0x10020 ∷ drive 5890 7 0x18020 ∷ drive 5890 0 0x02a00 ∷ drive 5890 7 0x10000 ∷ drive 5890 0 0x06a00 ∷ drive 5890 7 0x00001 ∷ drive 5980 7 0x08001 ∷ drive 5980 0 0x02a00 ∷ drive 5980 7 0x00000 ∷ drive 5980 0 0x00a00 ∷ drive 6380 0 0x04a00 ∷ drive 6380 7 0x0010a ∷ drive 6435 7 0x0810a ∷ drive 6435 0 0x00a00 ∷ drive 6435 7 0x00000 ∷ drive 6435 0 0x04a00 ∷ drive 6435 7 0x00001 ∷ drive 6490 7 0x08001 ∷ drive 6490 0 0x00a00 ∷ drive 6490 7 0x00000 ∷ drive 6490 0 0x04a00 ∷ drive 6490 7 0x00100 ∷ drive 6545 7 0x08100 ∷ drive 6545 0 0x00a00 ∷ drive 6545 7 0x00000 ∷ drive 6545 0 0x04a00 ∷ drive 6545 7 0x00100 ∷ drive 6600 7 0x08100 ∷ drive 6600 0 0x00a00 ∷ drive 6600 7 0x00000 ∷ drive 6600 0 0x04a00 ∷ drive 6600 7 0x00103 ∷ drive 6655 7 0x08103 ∷ drive 6655 0 0x00a00 ∷ drive 6655 7 0x00000 ∷ drive 6655 0 0x04a00 ∷ drive 6655 7 0x00100 ∷ drive 6710 7 0x08100 ∷ drive 6710 0 0x00a00 ∷ drive 6710 7 0x00000 ∷ drive 6710 0 0x03a00 ∷ drive 7510 0 0x03a04 ∷ drive 7565 0 0x07a04 ∷ drive 7565 7 0x08000 ∷ drive 7565 0 0x03a00 ∷ drive 7565 7 0x00000 ∷ drive 7565 0 0x00000 ∷ drive 8765 7 0x00280 ∷ drive 11165 7 0x00680 ∷ drive 12365 7 0x10781 ∷ drive 12455 7 0x10581 ∷ drive 12855 0 0x00200 ∷ drive 12945 7 0x10000 ∷ drive 12945 0 0x02a00 ∷ drive 13345 0 0x06a00 ∷ drive 13345 7 0x101c0 ∷ drive 13400 7 0x181c0 ∷ drive 13400 0 0x02a00 ∷ drive 13400 7 0x10000 ∷ drive 13400 0 0x06a00 ∷ drive 13400 7 0x10020 ∷ drive 13455 7 0x18020 ∷ drive 13455 0 0x02a00 ∷ drive 13455 7 0x10000 ∷ drive 13455 0 0x06a00 ∷ drive 13455 7 0x00002 ∷ drive 13545 7 0x08002 ∷ drive 13545 0 0x02a00 ∷ drive 13545 7 0x00000 ∷ drive 13545 0 0x00a00 ∷ drive 13945 0 0x04a00 ∷ drive 13945 7 0x0010a ∷ drive 14000 7 0x0810a ∷ drive 14000 0 0x00a00 ∷ drive 14000 7 0x00000 ∷ drive 14000 0 0x04a00 ∷ drive 14000 7 0x00001 ∷ drive 14055 7 0x08001 ∷ drive 14055 0 0x00a00 ∷ drive 14055 7 0x00000 ∷ drive 14055 0 0x04a00 ∷ drive 14055 7 0x00100 ∷ drive 14110 7 0x08100 ∷ drive 14110 0 0x00a00 ∷ drive 14110 7 0x00000 ∷ drive 14110 0 0x04a00 ∷ drive 14110 7 0x00100 ∷ drive 14165 7 0x08100 ∷ drive 14165 0 0x00a00 ∷ drive 14165 7 0x00000 ∷ drive 14165 0 0x04a00 ∷ drive 14165 7 0x00002 ∷ drive 14220 7 0x08002 ∷ drive 14220 0 0x00a00 ∷ drive 14220 7 0x00000 ∷ drive 14220 0 0x04a00 ∷ drive 14220 7 0x00100 ∷ drive 14275 7 0x08100 ∷ drive 14275 0 0x00a00 ∷ drive 14275 7 0x00000 ∷ drive 14275 0 0x03a00 ∷ drive 15075 0 0x03a04 ∷ drive 15130 0 0x07a04 ∷ drive 15130 7 0x08000 ∷ drive 15130 0 0x03a00 ∷ drive 15130 7 0x00000 ∷ drive 15130 0 0x00000 ∷ drive 36710 0 0x00201 ∷ drive 39110 0 0x00601 ∷ drive 40310 0 0x01781 ∷ drive 40400 0 0x01581 ∷ drive 40800 7 0x00200 ∷ drive 40800 0 0x01781 ∷ drive 40890 0 0x03a80 ∷ drive 40890 7 0x00000 ∷ drive 41290 0 0x07a80 ∷ drive 41290 7 0x08000 ∷ drive 41290 0 0x03a20 ∷ drive 41290 7 0x00000 ∷ drive 41345 0 0x07a20 ∷ drive 41345 7 0x08000 ∷ drive 41345 0 0x03a01 ∷ drive 41345 7 0x00000 ∷ drive 41400 0 0x07a01 ∷ drive 41400 7 0x08000 ∷ drive 41400 0 0x03a00 ∷ drive 41400 7 0x00000 ∷ drive 41400 0 0x00200 ∷ drive 41800 0 0x04200 ∷ drive 41800 7 0x00100 ∷ drive 41855 7 0x08100 ∷ drive 41855 0 0x00200 ∷ drive 41855 7 0x00000 ∷ drive 41855 0 0x04200 ∷ drive 41855 7 0x00001 ∷ drive 41910 7 0x08001 ∷ drive 41910 0 0x00200 ∷ drive 41910 7 0x00000 ∷ drive 41910 0 0x04200 ∷ drive 41910 7 0x00002 ∷ drive 41965 7 0x08002 ∷ drive 41965 0 0x00200 ∷ drive 41965 7 0x00000 ∷ drive 41965 0 0x04200 ∷ drive 41965 7 0x00103 ∷ drive 42020 7 0x08103 ∷ drive 42020 0 0x00200 ∷ drive 42020 7 0x00000 ∷ drive 42020 0 0x04200 ∷ drive 42020 7 0x00004 ∷ drive 42075 7 0x08004 ∷ drive 42075 0 0x00200 ∷ drive 42075 7 0x00000 ∷ drive 42075 0 0x04200 ∷ drive 42075 7 0x00105 ∷ drive 42130 7 0x08105 ∷ drive 42130 0 0x00200 ∷ drive 42130 7 0x00000 ∷ drive 42130 0 0x04200 ∷ drive 42130 7 0x00106 ∷ drive 42185 7 0x08106 ∷ drive 42185 0 0x00200 ∷ drive 42185 7 0x00000 ∷ drive 42185 0 0x04200 ∷ drive 42185 7 0x00007 ∷ drive 42240 7 0x08007 ∷ drive 42240 0 0x00200 ∷ drive 42240 7 0x00000 ∷ drive 42240 0 0x04200 ∷ drive 42240 7 0x00008 ∷ drive 42295 7 0x08008 ∷ drive 42295 0 0x00200 ∷ drive 42295 7 0x00000 ∷ drive 42295 0 0x04200 ∷ drive 42295 7 0x00109 ∷ drive 42350 7 0x08109 ∷ drive 42350 0 0x00200 ∷ drive 42350 7 0x00000 ∷ drive 42350 0 0x04200 ∷ drive 42350 7 0x0010a ∷ drive 42405 7 0x0810a ∷ drive 42405 0 0x00200 ∷ drive 42405 7 0x00000 ∷ drive 42405 0 0x04200 ∷ drive 42405 7 0x0000b ∷ drive 42460 7 0x0800b ∷ drive 42460 0 0x00200 ∷ drive 42460 7 0x00000 ∷ drive 42460 0 0x04200 ∷ drive 42460 7 0x0010c ∷ drive 42515 7 0x0810c ∷ drive 42515 0 0x00200 ∷ drive 42515 7 0x00000 ∷ drive 42515 0 0x04200 ∷ drive 42515 7 0x0000d ∷ drive 42570 7 0x0800d ∷ drive 42570 0 0x00200 ∷ drive 42570 7 0x00000 ∷ drive 42570 0 0x04200 ∷ drive 42570 7 0x0000e ∷ drive 42625 7 0x0800e ∷ drive 42625 0 0x00200 ∷ drive 42625 7 0x00000 ∷ drive 42625 0 0x04200 ∷ drive 42625 7 0x0010f ∷ drive 42680 7 0x0810f ∷ drive 42680 0 0x00200 ∷ drive 42680 7 0x00000 ∷ drive 42680 0 0x04200 ∷ drive 42680 7 0x00010 ∷ drive 42735 7 0x08010 ∷ drive 42735 0 0x00200 ∷ drive 42735 7 0x00000 ∷ drive 42735 0 0x04200 ∷ drive 42735 7 0x00111 ∷ drive 42790 7 0x08111 ∷ drive 42790 0 0x00200 ∷ drive 42790 7 0x00000 ∷ drive 42790 0 0x04200 ∷ drive 42790 7 0x00112 ∷ drive 42845 7 0x08112 ∷ drive 42845 0 0x00200 ∷ drive 42845 7 0x00000 ∷ drive 42845 0 0x04200 ∷ drive 42845 7 0x00013 ∷ drive 42900 7 0x08013 ∷ drive 42900 0 0x00200 ∷ drive 42900 7 0x00000 ∷ drive 42900 0 0x04200 ∷ drive 42900 7 0x00114 ∷ drive 42955 7 0x08114 ∷ drive 42955 0 0x00200 ∷ drive 42955 7 0x00000 ∷ drive 42955 0 0x04200 ∷ drive 42955 7 0x00015 ∷ drive 43010 7 0x08015 ∷ drive 43010 0 0x00200 ∷ drive 43010 7 0x00000 ∷ drive 43010 0 0x04200 ∷ drive 43010 7 0x00016 ∷ drive 43065 7 0x08016 ∷ drive 43065 0 0x00200 ∷ drive 43065 7 0x00000 ∷ drive 43065 0 0x04200 ∷ drive 43065 7 0x00117 ∷ drive 43120 7 0x08117 ∷ drive 43120 0 0x00200 ∷ drive 43120 7 0x00000 ∷ drive 43120 0 0x04200 ∷ drive 43120 7 0x00118 ∷ drive 43175 7 0x08118 ∷ drive 43175 0 0x00200 ∷ drive 43175 7 0x00000 ∷ drive 43175 0 0x04200 ∷ drive 43175 7 0x00019 ∷ drive 43230 7 0x08019 ∷ drive 43230 0 0x00200 ∷ drive 43230 7 0x00000 ∷ drive 43230 0 0x04200 ∷ drive 43230 7 0x0001a ∷ drive 43285 7 0x0801a ∷ drive 43285 0 0x00200 ∷ drive 43285 7 0x00000 ∷ drive 43285 0 0x04200 ∷ drive 43285 7 0x0011b ∷ drive 43340 7 0x0811b ∷ drive 43340 0 0x00200 ∷ drive 43340 7 0x00000 ∷ drive 43340 0 0x04200 ∷ drive 43340 7 0x0001c ∷ drive 43395 7 0x0801c ∷ drive 43395 0 0x00200 ∷ drive 43395 7 0x00000 ∷ drive 43395 0 0x04200 ∷ drive 43395 7 0x0011d ∷ drive 43450 7 0x0811d ∷ drive 43450 0 0x00200 ∷ drive 43450 7 0x00000 ∷ drive 43450 0 0x04200 ∷ drive 43450 7 0x0011e ∷ drive 43505 7 0x0811e ∷ drive 43505 0 0x00200 ∷ drive 43505 7 0x00000 ∷ drive 43505 0 0x04200 ∷ drive 43505 7 0x0001f ∷ drive 43560 7 0x0801f ∷ drive 43560 0 0x00200 ∷ drive 43560 7 0x00000 ∷ drive 43560 0 0x04200 ∷ drive 43560 7 0x00020 ∷ drive 43615 7 0x08020 ∷ drive 43615 0 0x00200 ∷ drive 43615 7 0x00000 ∷ drive 43615 0 0x04200 ∷ drive 43615 7 0x00121 ∷ drive 43670 7 0x08121 ∷ drive 43670 0 0x00200 ∷ drive 43670 7 0x00000 ∷ drive 43670 0 0x04200 ∷ drive 43670 7 0x00122 ∷ drive 43725 7 0x08122 ∷ drive 43725 0 0x00200 ∷ drive 43725 7 0x00000 ∷ drive 43725 0 0x04200 ∷ drive 43725 7 0x00023 ∷ drive 43780 7 0x08023 ∷ drive 43780 0 0x00200 ∷ drive 43780 7 0x00000 ∷ drive 43780 0 0x04200 ∷ drive 43780 7 0x00124 ∷ drive 43835 7 0x08124 ∷ drive 43835 0 0x00200 ∷ drive 43835 7 0x00000 ∷ drive 43835 0 0x04200 ∷ drive 43835 7 0x00025 ∷ drive 43890 7 0x08025 ∷ drive 43890 0 0x00200 ∷ drive 43890 7 0x00000 ∷ drive 43890 0 0x04200 ∷ drive 43890 7 0x00026 ∷ drive 43945 7 0x08026 ∷ drive 43945 0 0x00200 ∷ drive 43945 7 0x00000 ∷ drive 43945 0 0x04200 ∷ drive 43945 7 0x00127 ∷ drive 44000 7 0x08127 ∷ drive 44000 0 0x00200 ∷ drive 44000 7 0x00000 ∷ drive 44000 0 0x04200 ∷ drive 44000 7 0x00128 ∷ drive 44055 7 0x08128 ∷ drive 44055 0 0x00200 ∷ drive 44055 7 0x00000 ∷ drive 44055 0 0x04200 ∷ drive 44055 7 0x00029 ∷ drive 44110 7 0x08029 ∷ drive 44110 0 0x00200 ∷ drive 44110 7 0x00000 ∷ drive 44110 0 0x04200 ∷ drive 44110 7 0x0002a ∷ drive 44165 7 0x0802a ∷ drive 44165 0 0x00200 ∷ drive 44165 7 0x00000 ∷ drive 44165 0 0x04200 ∷ drive 44165 7 0x0012b ∷ drive 44220 7 0x0812b ∷ drive 44220 0 0x00200 ∷ drive 44220 7 0x00000 ∷ drive 44220 0 0x04200 ∷ drive 44220 7 0x0002c ∷ drive 44275 7 0x0802c ∷ drive 44275 0 0x00200 ∷ drive 44275 7 0x00000 ∷ drive 44275 0 0x04200 ∷ drive 44275 7 0x0012d ∷ drive 44330 7 0x0812d ∷ drive 44330 0 0x00200 ∷ drive 44330 7 0x00000 ∷ drive 44330 0 0x04200 ∷ drive 44330 7 0x0012e ∷ drive 44385 7 0x0812e ∷ drive 44385 0 0x00200 ∷ drive 44385 7 0x00000 ∷ drive 44385 0 0x04200 ∷ drive 44385 7 0x0002f ∷ drive 44440 7 0x0802f ∷ drive 44440 0 0x00200 ∷ drive 44440 7 0x00000 ∷ drive 44440 0 0x01a00 ∷ drive 45240 0 0x01b00 ∷ drive 45295 0 0x05b00 ∷ drive 45295 7 0x08000 ∷ drive 45295 0 0x01a00 ∷ drive 45295 7 0x00000 ∷ drive 45295 0 0x03b00 ∷ drive 45695 0 0x07b00 ∷ drive 45695 7 0x08000 ∷ drive 45695 0 0x03a00 ∷ drive 45695 7 0x00000 ∷ drive 45695 0 0x00000 ∷ drive 75695 0 0x00201 ∷ drive 78095 0 0x00601 ∷ drive 79295 0 0x01781 ∷ drive 79385 0 0x01581 ∷ drive 79785 7 0x00200 ∷ drive 79785 0 0x01781 ∷ drive 79875 0 0x03a80 ∷ drive 79875 7 0x00000 ∷ drive 80275 0 0x07a80 ∷ drive 80275 7 0x08000 ∷ drive 80275 0 0x03a20 ∷ drive 80275 7 0x00000 ∷ drive 80330 0 0x07a20 ∷ drive 80330 7 0x08000 ∷ drive 80330 0 0x03a02 ∷ drive 80330 7 0x00000 ∷ drive 80385 0 0x07a02 ∷ drive 80385 7 0x08000 ∷ drive 80385 0 0x03a00 ∷ drive 80385 7 0x00000 ∷ drive 80385 0 0x01a02 ∷ drive 80785 0 0x05a02 ∷ drive 80785 7 0x08000 ∷ drive 80785 0 0x01a00 ∷ drive 80785 7 0x00000 ∷ drive 80785 0 0x03b00 ∷ drive 81185 0 0x07b00 ∷ drive 81185 7 0x08000 ∷ drive 81185 0 0x03a00 ∷ drive 81185 7 0x00000 ∷ drive 81185 0 0x00000 ∷ drive 82385 7 0x00280 ∷ drive 84785 7 0x00680 ∷ drive 85985 7 0x10781 ∷ drive 86075 7 0x10581 ∷ drive 86475 0 0x00200 ∷ drive 86565 7 0x10000 ∷ drive 86565 0 0x02a00 ∷ drive 86965 0 0x06a00 ∷ drive 86965 7 0x00080 ∷ drive 87055 7 0x08080 ∷ drive 87055 0 0x02a00 ∷ drive 87055 7 0x00000 ∷ drive 87055 0 0x00a00 ∷ drive 87455 0 0x04a00 ∷ drive 87455 7 0x00103 ∷ drive 87510 7 0x08103 ∷ drive 87510 0 0x00a00 ∷ drive 87510 7 0x00000 ∷ drive 87510 0 0x04a00 ∷ drive 87510 7 0x00100 ∷ drive 87565 7 0x08100 ∷ drive 87565 0 0x00a00 ∷ drive 87565 7 0x00000 ∷ drive 87565 0 0x04a00 ∷ drive 87565 7 0x00100 ∷ drive 87620 7 0x08100 ∷ drive 87620 0 0x00a00 ∷ drive 87620 7 0x00000 ∷ drive 87620 0 0x04a00 ∷ drive 87620 7 0x00100 ∷ drive 87675 7 0x08100 ∷ drive 87675 0 0x00a00 ∷ drive 87675 7 0x00000 ∷ drive 87675 0 0x04a00 ∷ drive 87675 7 0x00112 ∷ drive 87730 7 0x08112 ∷ drive 87730 0 0x00a00 ∷ drive 87730 7 0x00000 ∷ drive 87730 0 0x04a00 ∷ drive 87730 7 0x00100 ∷ drive 87785 7 0x08100 ∷ drive 87785 0 0x00a00 ∷ drive 87785 7 0x00000 ∷ drive 87785 0 0x01200 ∷ drive 88585 0 0x013f0 ∷ drive 88640 0 0x053f0 ∷ drive 88640 7 0x08000 ∷ drive 88640 0 0x01300 ∷ drive 88640 7 0x00000 ∷ drive 88695 0 0x05300 ∷ drive 88695 7 0x08000 ∷ drive 88695 0 0x0134d ∷ drive 88695 7 0x00000 ∷ drive 88750 0 0x0534d ∷ drive 88750 7 0x08000 ∷ drive 88750 0 0x01300 ∷ drive 88750 7 0x00000 ∷ drive 88805 0 0x05300 ∷ drive 88805 7 0x08000 ∷ drive 88805 0 0x01300 ∷ drive 88805 7 0x00000 ∷ drive 88860 0 0x05300 ∷ drive 88860 7 0x08000 ∷ drive 88860 0 0x01300 ∷ drive 88860 7 0x00000 ∷ drive 88915 0 0x05300 ∷ drive 88915 7 0x08000 ∷ drive 88915 0 0x01202 ∷ drive 88915 7 0x00000 ∷ drive 88970 0 0x05202 ∷ drive 88970 7 0x08000 ∷ drive 88970 0 0x0130a ∷ drive 88970 7 0x00000 ∷ drive 89025 0 0x0530a ∷ drive 89025 7 0x08000 ∷ drive 89025 0 0x01300 ∷ drive 89025 7 0x00000 ∷ drive 89080 0 0x05300 ∷ drive 89080 7 0x08000 ∷ drive 89080 0 0x01300 ∷ drive 89080 7 0x00000 ∷ drive 89135 0 0x05300 ∷ drive 89135 7 0x08000 ∷ drive 89135 0 0x01300 ∷ drive 89135 7 0x00000 ∷ drive 89190 0 0x05300 ∷ drive 89190 7 0x08000 ∷ drive 89190 0 0x01300 ∷ drive 89190 7 0x00000 ∷ drive 89245 0 0x05300 ∷ drive 89245 7 0x08000 ∷ drive 89245 0 0x01300 ∷ drive 89245 7 0x00000 ∷ drive 89300 0 0x05300 ∷ drive 89300 7 0x08000 ∷ drive 89300 0 0x01202 ∷ drive 89300 7 0x00000 ∷ drive 89355 0 0x05202 ∷ drive 89355 7 0x08000 ∷ drive 89355 0 0x01300 ∷ drive 89355 7 0x00000 ∷ drive 89410 0 0x05300 ∷ drive 89410 7 0x08000 ∷ drive 89410 0 0x01300 ∷ drive 89410 7 0x00000 ∷ drive 89465 0 0x05300 ∷ drive 89465 7 0x08000 ∷ drive 89465 0 0x01300 ∷ drive 89465 7 0x00000 ∷ drive 89520 0 0x05300 ∷ drive 89520 7 0x08000 ∷ drive 89520 0 0x01300 ∷ drive 89520 7 0x00000 ∷ drive 89575 0 0x05300 ∷ drive 89575 7 0x08000 ∷ drive 89575 0 0x01200 ∷ drive 89575 7 0x00000 ∷ drive 89575 0 0x01b00 ∷ drive 89975 0 0x05b00 ∷ drive 89975 7 0x08000 ∷ drive 89975 0 0x01a00 ∷ drive 89975 7 0x00000 ∷ drive 89975 0 0x03b00 ∷ drive 90375 0 0x07b00 ∷ drive 90375 7 0x08000 ∷ drive 90375 0 0x03a00 ∷ drive 90375 7 0x00000 ∷ drive 90375 0 0x00000 ∷ []

abbrev room_known_late_due_events : List Event
room_known_late_due_events = events.Accept (command 1) ∷ events.Accept (command 2) ∷ events.Run (command 1) ∷ events.End (command 1) 0 ∷ events.Run (command 2) ∷ events.End (command 2) 2 ∷ events.Accept (sense 2) ∷ events.Run (sense 2) ∷ events.End (sense 2) 0 ∷ []

abbrev pub room_known_late_due_shown : Shows
room_known_late_due_shown = record { rows = reverse room_known_late_due_rows; history = reverse room_known_late_due_events; ended = true }

-- ---- check_by_pulses_due

abbrev pub check_by_pulses_due : ScenarioValue
check_by_pulses_due = record {
  version = 3;
  hosts = record { dev = 7; latency = 0; most = 1; retries = 2; period = 50; offset = 8; lag = 0; offers = true } ∷ [];
  targets = record { dev = 0; latency = 0; retries = 2; disc = policies.Never; pick = picks.First; seek = 0; period = 50; offset = 8; begins = false } ∷ [];
  units = [];
  fills = [];
  tapes = record { target = 0; unit = 0; objects = 4; size = 16; depth = 1 } ∷ [];
  loads = record { target = 0; unit = 0; what = loads.Block (65 ∷ 65 ∷ 65 ∷ 65 ∷ 65 ∷ 65 ∷ 65 ∷ 65 ∷ 65 ∷ 65 ∷ 65 ∷ 65 ∷ 65 ∷ 65 ∷ 65 ∷ 65 ∷ []) } ∷ record { target = 0; unit = 0; what = loads.Mark } ∷ [];
  commands = record { host = 7; target = 0; unit = 0; at = 0; tag = tags.Untagged; cdb = (8 ∷ 1 ∷ 0 ∷ 0 ∷ 2 ∷ 0 ∷ []); payload = payloads.Nothing } ∷ [];
  aborts = [];
  resets = [];
  faults = [];
}

abbrev pub check_by_pulses_due_rows : List Row
check_by_pulses_due_rows = drive 1200 7 0x00280 ∷ drive 3600 7 0x00680 ∷ drive 4800 7 0x10781 ∷ drive 4890 7 0x10581 ∷ drive 5290 0 0x00200 ∷ drive 5380 7 0x10000 ∷ drive 5380 0 0x02a00 ∷ drive 5780 0 0x06a00 ∷ drive 5780 7 0x101c0 ∷ drive 5835 7 0x181c0 ∷ drive 5835 0 0x02a00 ∷ drive 5835 7 0x10000 ∷ drive 5835 0 0x06a00 ∷ drive 5835 7 0x10001 ∷ drive 5890 7 0x18001 ∷ drive 5890 0 0x02a00 ∷ drive 5890 7 0x10000 ∷ drive 5890 0 0x06a00 ∷ drive 5890 7 0x10103 ∷ drive 5945 7 0x18103 ∷ drive 5945 0 0x02a00 ∷ drive 5945 7 0x10000 ∷ drive 5945 0 0x06a00 ∷ drive 5945 7 0x10001 ∷ drive 6000 7 0x18001 ∷ drive 6000 0 0x02a00 ∷ drive 6000 7 0x10000 ∷ drive 6000 0 0x06a00 ∷ drive 6000 7 0x10032 ∷ drive 6055 7 0x18032 ∷ drive 6055 0 0x02a00 ∷ drive 6055 7 0x10000 ∷ drive 6055 0 0x06a00 ∷ drive 6055 7 0x00008 ∷ drive 6145 7 0x08008 ∷ drive 6145 0 0x02a00 ∷ drive 6145 7 0x00000 ∷ drive 6145 0 0x03a00 ∷ drive 6945 0 0x03a01 ∷ drive 7000 0 0x07a01 ∷ drive 7000 7 0x08000 ∷ drive 7000 0 0x03b03 ∷ drive 7000 7 0x00000 ∷ drive 7055 0 0x07b03 ∷ drive 7055 7 0x08000 ∷ drive 7055 0 0x03a01 ∷ drive 7055 7 0x00000 ∷ drive 7110 0 0x07a01 ∷ drive 7110 7 0x08000 ∷ drive 7110 0 0x03a32 ∷ drive 7110 7 0x00000 ∷ drive 7165 0 0x07a32 ∷ drive 7165 7 0x08000 ∷ drive 7165 0 0x03a08 ∷ drive 7165 7 0x00000 ∷ drive 7220 0 0x07a08 ∷ drive 7220 7 0x08000 ∷ drive 7220 0 0x03a00 ∷ drive 7220 7 0x00000 ∷ drive 7220 0 0x00a00 ∷ drive 7620 0 0x04a00 ∷ drive 7620 7 0x00008 ∷ drive 7675 7 0x08008 ∷ drive 7675 0 0x00a00 ∷ drive 7675 7 0x00000 ∷ drive 7675 0 0x04a00 ∷ drive 7675 7 0x00001 ∷ drive 7730 7 0x08001 ∷ drive 7730 0 0x00a00 ∷ drive 7730 7 0x00000 ∷ drive 7730 0 0x04a00 ∷ drive 7730 7 0x00100 ∷ drive 7785 7 0x08100 ∷ drive 7785 0 0x00a00 ∷ drive 7785 7 0x00000 ∷ drive 7785 0 0x04a00 ∷ drive 7785 7 0x00100 ∷ drive 7840 7 0x08100 ∷ drive 7840 0 0x00a00 ∷ drive 7840 7 0x00000 ∷ drive 7840 0 0x04a00 ∷ drive 7840 7 0x00002 ∷ drive 7895 7 0x08002 ∷ drive 7895 0 0x00a00 ∷ drive 7895 7 0x00000 ∷ drive 7895 0 0x04a00 ∷ drive 7895 7 0x00100 ∷ drive 7950 7 0x08100 ∷ drive 7950 0 0x00a00 ∷ drive 7950 7 0x00000 ∷ drive 7950 0 0x01200 ∷ drive 8750 0 0x01341 ∷ drive 8805 0 0x05341 ∷ drive 8805 7 0x08000 ∷ drive 8895 7 0x00000 ∷ drive 8895 0 0x01341 ∷ drive 9005 0 0x05341 ∷ drive 9005 7 0x08000 ∷ drive 9095 7 0x00000 ∷ drive 9095 0 0x01341 ∷ drive 9205 0 0x05341 ∷ drive 9205 7 0x08000 ∷ drive 9295 7 0x00000 ∷ drive 9295 0 0x01341 ∷ drive 9405 0 0x05341 ∷ drive 9405 7 0x08000 ∷ drive 9495 7 0x00000 ∷ drive 9495 0 0x01341 ∷ drive 9605 0 0x05341 ∷ drive 9605 7 0x08000 ∷ drive 9695 7 0x00000 ∷ drive 9695 0 0x01341 ∷ drive 9805 0 0x05341 ∷ drive 9805 7 0x08000 ∷ drive 9895 7 0x00000 ∷ drive 9895 0 0x01341 ∷ drive 10005 0 0x05341 ∷ drive 10005 7 0x08000 ∷ drive 10095 7 0x00000 ∷ drive 10095 0 0x01341 ∷ drive 10205 0 0x05341 ∷ drive 10205 7 0x08000 ∷ drive 10295 7 0x00000 ∷ drive 10295 0 0x01341 ∷ drive 10405 0 0x05341 ∷ drive 10405 7 0x08000 ∷ drive 10495 7 0x00000 ∷ drive 10495 0 0x01341 ∷ drive 10605 0 0x05341 ∷ drive 10605 7 0x08000 ∷ drive 10695 7 0x00000 ∷ drive 10695 0 0x01341 ∷ drive 10805 0 0x05341 ∷ drive 10805 7 0x08000 ∷ drive 10895 7 0x00000 ∷ drive 10895 0 0x01341 ∷ drive 11005 0 0x05341 ∷ drive 11005 7 0x08000 ∷ drive 11095 7 0x00000 ∷ drive 11095 0 0x01341 ∷ drive 11205 0 0x05341 ∷ drive 11205 7 0x08000 ∷ drive 11295 7 0x00000 ∷ drive 11295 0 0x01341 ∷ drive 11405 0 0x05341 ∷ drive 11405 7 0x08000 ∷ drive 11495 7 0x00000 ∷ drive 11495 0 0x01341 ∷ drive 11605 0 0x05341 ∷ drive 11605 7 0x08000 ∷ drive 11695 7 0x00000 ∷ drive 11695 0 0x01341 ∷ drive 11805 0 0x05341 ∷ drive 11805 7 0x08000 ∷ drive 11895 7 0x00000 ∷ drive 11895 0 0x01341 ∷ drive 11905 0 0x01200 ∷ drive 11905 0 0x01a02 ∷ drive 12305 0 0x05a02 ∷ drive 12305 7 0x08000 ∷ drive 12305 0 0x01a00 ∷ drive 12305 7 0x00000 ∷ drive 12305 0 0x03b00 ∷ drive 12705 0 0x07b00 ∷ drive 12705 7 0x08000 ∷ drive 12705 0 0x03a00 ∷ drive 12705 7 0x00000 ∷ drive 12705 0 0x00000 ∷ drive 13905 7 0x00280 ∷ drive 16305 7 0x00680 ∷ drive 17505 7 0x10781 ∷ drive 17595 7 0x10581 ∷ drive 17995 0 0x00200 ∷ drive 18085 7 0x10000 ∷ drive 18085 0 0x02a00 ∷ drive 18485 0 0x06a00 ∷ drive 18485 7 0x00080 ∷ drive 18575 7 0x08080 ∷ drive 18575 0 0x02a00 ∷ drive 18575 7 0x00000 ∷ drive 18575 0 0x00a00 ∷ drive 18975 0 0x04a00 ∷ drive 18975 7 0x00103 ∷ drive 19030 7 0x08103 ∷ drive 19030 0 0x00a00 ∷ drive 19030 7 0x00000 ∷ drive 19030 0 0x04a00 ∷ drive 19030 7 0x00100 ∷ drive 19085 7 0x08100 ∷ drive 19085 0 0x00a00 ∷ drive 19085 7 0x00000 ∷ drive 19085 0 0x04a00 ∷ drive 19085 7 0x00100 ∷ drive 19140 7 0x08100 ∷ drive 19140 0 0x00a00 ∷ drive 19140 7 0x00000 ∷ drive 19140 0 0x04a00 ∷ drive 19140 7 0x00100 ∷ drive 19195 7 0x08100 ∷ drive 19195 0 0x00a00 ∷ drive 19195 7 0x00000 ∷ drive 19195 0 0x04a00 ∷ drive 19195 7 0x00112 ∷ drive 19250 7 0x08112 ∷ drive 19250 0 0x00a00 ∷ drive 19250 7 0x00000 ∷ drive 19250 0 0x04a00 ∷ drive 19250 7 0x00100 ∷ drive 19305 7 0x08100 ∷ drive 19305 0 0x00a00 ∷ drive 19305 7 0x00000 ∷ drive 19305 0 0x01200 ∷ drive 20105 0 0x013f0 ∷ drive 20160 0 0x053f0 ∷ drive 20160 7 0x08000 ∷ drive 20250 7 0x00000 ∷ drive 20250 0 0x013f0 ∷ drive 20260 0 0x01300 ∷ drive 20360 0 0x05300 ∷ drive 20360 7 0x08000 ∷ drive 20450 7 0x00000 ∷ drive 20450 0 0x01300 ∷ drive 20460 0 0x01280 ∷ drive 20560 0 0x05280 ∷ drive 20560 7 0x08000 ∷ drive 20650 7 0x00000 ∷ drive 20650 0 0x01280 ∷ drive 20660 0 0x01300 ∷ drive 20760 0 0x05300 ∷ drive 20760 7 0x08000 ∷ drive 20850 7 0x00000 ∷ drive 20850 0 0x01300 ∷ drive 20960 0 0x05300 ∷ drive 20960 7 0x08000 ∷ drive 21050 7 0x00000 ∷ drive 21050 0 0x01300 ∷ drive 21160 0 0x05300 ∷ drive 21160 7 0x08000 ∷ drive 21250 7 0x00000 ∷ drive 21250 0 0x01300 ∷ drive 21260 0 0x01201 ∷ drive 21360 0 0x05201 ∷ drive 21360 7 0x08000 ∷ drive 21450 7 0x00000 ∷ drive 21450 0 0x01201 ∷ drive 21460 0 0x0130a ∷ drive 21560 0 0x0530a ∷ drive 21560 7 0x08000 ∷ drive 21650 7 0x00000 ∷ drive 21650 0 0x0130a ∷ drive 21660 0 0x01300 ∷ drive 21760 0 0x05300 ∷ drive 21760 7 0x08000 ∷ drive 21850 7 0x00000 ∷ drive 21850 0 0x01300 ∷ drive 21960 0 0x05300 ∷ drive 21960 7 0x08000 ∷ drive 22050 7 0x00000 ∷ drive 22050 0 0x01300 ∷ drive 22160 0 0x05300 ∷ drive 22160 7 0x08000 ∷ drive 22250 7 0x00000 ∷ drive 22250 0 0x01300 ∷ drive 22360 0 0x05300 ∷ drive 22360 7 0x08000 ∷ drive 22450 7 0x00000 ∷ drive 22450 0 0x01300 ∷ drive 22560 0 0x05300 ∷ drive 22560 7 0x08000 ∷ drive 22650 7 0x00000 ∷ drive 22650 0 0x01300 ∷ drive 22660 0 0x01201 ∷ drive 22760 0 0x05201 ∷ drive 22760 7 0x08000 ∷ drive 22850 7 0x00000 ∷ drive 22850 0 0x01201 ∷ drive 22860 0 0x01300 ∷ drive 22960 0 0x05300 ∷ drive 22960 7 0x08000 ∷ drive 23050 7 0x00000 ∷ drive 23050 0 0x01300 ∷ drive 23160 0 0x05300 ∷ drive 23160 7 0x08000 ∷ drive 23250 7 0x00000 ∷ drive 23250 0 0x01300 ∷ drive 23360 0 0x05300 ∷ drive 23360 7 0x08000 ∷ drive 23450 7 0x00000 ∷ drive 23450 0 0x01300 ∷ drive 23560 0 0x05300 ∷ drive 23560 7 0x08000 ∷ drive 23650 7 0x00000 ∷ drive 23650 0 0x01300 ∷ drive 23660 0 0x01200 ∷ drive 23660 0 0x01b00 ∷ drive 24060 0 0x05b00 ∷ drive 24060 7 0x08000 ∷ drive 24060 0 0x01a00 ∷ drive 24060 7 0x00000 ∷ drive 24060 0 0x03b00 ∷ drive 24460 0 0x07b00 ∷ drive 24460 7 0x08000 ∷ drive 24460 0 0x03a00 ∷ drive 24460 7 0x00000 ∷ drive 24460 0 0x00000 ∷ []

abbrev check_by_pulses_due_events : List Event
check_by_pulses_due_events = events.Accept (command 1) ∷ events.Run (command 1) ∷ events.End (command 1) 2 ∷ events.Accept (sense 1) ∷ events.Run (sense 1) ∷ events.End (sense 1) 0 ∷ []

abbrev pub check_by_pulses_due_shown : Shows
check_by_pulses_due_shown = record { rows = reverse check_by_pulses_due_rows; history = reverse check_by_pulses_due_events; ended = true }

-- ---- check_without_sense_due

abbrev pub check_without_sense_due : ScenarioValue
check_without_sense_due = record {
  version = 3;
  hosts = record { dev = 7; latency = 0; most = 1; retries = 2; period = 0; offset = 0; lag = 0; offers = true } ∷ [];
  targets = record { dev = 0; latency = 0; retries = 2; disc = policies.Never; pick = picks.First; seek = 0; period = 0; offset = 0; begins = false } ∷ [];
  units = [];
  fills = [];
  tapes = record { target = 0; unit = 0; objects = 12; size = 16; depth = 1 } ∷ [];
  loads = record { target = 0; unit = 0; what = loads.Block (65 ∷ 65 ∷ 65 ∷ 65 ∷ 65 ∷ 65 ∷ 65 ∷ 65 ∷ 65 ∷ 65 ∷ 65 ∷ 65 ∷ 65 ∷ 65 ∷ 65 ∷ 65 ∷ []) } ∷ record { target = 0; unit = 0; what = loads.Block (66 ∷ 66 ∷ 66 ∷ 66 ∷ 66 ∷ 66 ∷ 66 ∷ 66 ∷ 66 ∷ 66 ∷ 66 ∷ 66 ∷ 66 ∷ 66 ∷ 66 ∷ 66 ∷ []) } ∷ record { target = 0; unit = 0; what = loads.Mark } ∷ record { target = 0; unit = 0; what = loads.Block (67 ∷ 67 ∷ 67 ∷ 67 ∷ 67 ∷ 67 ∷ 67 ∷ 67 ∷ 67 ∷ 67 ∷ 67 ∷ 67 ∷ 67 ∷ 67 ∷ 67 ∷ 67 ∷ []) } ∷ record { target = 0; unit = 0; what = loads.Mark } ∷ record { target = 0; unit = 0; what = loads.Mark } ∷ record { target = 0; unit = 0; what = loads.Block (68 ∷ 68 ∷ 68 ∷ 68 ∷ 68 ∷ 68 ∷ 68 ∷ 68 ∷ 68 ∷ 68 ∷ 68 ∷ 68 ∷ 68 ∷ 68 ∷ 68 ∷ 68 ∷ []) } ∷ [];
  commands = record { host = 7; target = 0; unit = 0; at = 0; tag = tags.Untagged; cdb = (17 ∷ 0 ∷ 0 ∷ 0 ∷ 9 ∷ 0 ∷ []); payload = payloads.Nothing } ∷ record { host = 7; target = 0; unit = 0; at = 0; tag = tags.Untagged; cdb = (8 ∷ 1 ∷ 0 ∷ 0 ∷ 1 ∷ 0 ∷ []); payload = payloads.Nothing } ∷ [];
  aborts = record { host = 7; target = 0; unit = 0; at = 5000; what = aborts.All } ∷ [];
  resets = [];
  faults = [];
}

abbrev pub check_without_sense_due_rows : List Row
check_without_sense_due_rows = drive 1200 7 0x00280 ∷ drive 3600 7 0x00680 ∷ drive 4800 7 0x10781 ∷ drive 4890 7 0x10581 ∷ drive 5290 0 0x00200 ∷ drive 5380 7 0x10000 ∷ drive 5380 0 0x02a00 ∷ drive 5780 0 0x06a00 ∷ drive 5780 7 0x001c0 ∷ drive 5870 7 0x081c0 ∷ drive 5870 0 0x02a00 ∷ drive 5870 7 0x00000 ∷ drive 5870 0 0x00a00 ∷ drive 6270 0 0x04a00 ∷ drive 6270 7 0x00111 ∷ drive 6325 7 0x08111 ∷ drive 6325 0 0x00a00 ∷ drive 6325 7 0x00000 ∷ drive 6325 0 0x04a00 ∷ drive 6325 7 0x00100 ∷ drive 6380 7 0x08100 ∷ drive 6380 0 0x00a00 ∷ drive 6380 7 0x00000 ∷ drive 6380 0 0x04a00 ∷ drive 6380 7 0x00100 ∷ drive 6435 7 0x08100 ∷ drive 6435 0 0x00a00 ∷ drive 6435 7 0x00000 ∷ drive 6435 0 0x04a00 ∷ drive 6435 7 0x00100 ∷ drive 6490 7 0x08100 ∷ drive 6490 0 0x00a00 ∷ drive 6490 7 0x00000 ∷ drive 6490 0 0x04a00 ∷ drive 6490 7 0x00109 ∷ drive 6545 7 0x08109 ∷ drive 6545 0 0x00a00 ∷ drive 6545 7 0x00000 ∷ drive 6545 0 0x04a00 ∷ drive 6545 7 0x00100 ∷ drive 6600 7 0x08100 ∷ drive 6600 0 0x00a00 ∷ drive 6600 7 0x00000 ∷ drive 6600 0 0x01a00 ∷ drive 7400 0 0x01a02 ∷ drive 7455 0 0x05a02 ∷ drive 7455 7 0x08000 ∷ drive 7455 0 0x01a00 ∷ drive 7455 7 0x00000 ∷ drive 7455 0 0x03b00 ∷ drive 7855 0 0x07b00 ∷ drive 7855 7 0x08000 ∷ drive 7855 0 0x03a00 ∷ drive 7855 7 0x00000 ∷ drive 7855 0 0x00000 ∷ drive 9055 7 0x00280 ∷ drive 11455 7 0x00680 ∷ drive 12655 7 0x10781 ∷ drive 12745 7 0x10581 ∷ drive 13145 0 0x00200 ∷ drive 13235 7 0x10000 ∷ drive 13235 0 0x02a00 ∷ drive 13635 0 0x06a00 ∷ drive 13635 7 0x10080 ∷ drive 13690 7 0x18080 ∷ drive 13690 0 0x02a00 ∷ drive 13690 7 0x10000 ∷ drive 13690 0 0x06a00 ∷ drive 13690 7 0x00106 ∷ drive 13780 7 0x08106 ∷ drive 13780 0 0x02a00 ∷ drive 13780 7 0x00000 ∷ drive 13780 0 0x00000 ∷ drive 14980 7 0x00280 ∷ drive 17380 7 0x00680 ∷ drive 18580 7 0x10781 ∷ drive 18670 7 0x10581 ∷ drive 19070 0 0x00200 ∷ drive 19160 7 0x10000 ∷ drive 19160 0 0x02a00 ∷ drive 19560 0 0x06a00 ∷ drive 19560 7 0x001c0 ∷ drive 19650 7 0x081c0 ∷ drive 19650 0 0x02a00 ∷ drive 19650 7 0x00000 ∷ drive 19650 0 0x00a00 ∷ drive 20050 0 0x04a00 ∷ drive 20050 7 0x00008 ∷ drive 20105 7 0x08008 ∷ drive 20105 0 0x00a00 ∷ drive 20105 7 0x00000 ∷ drive 20105 0 0x04a00 ∷ drive 20105 7 0x00001 ∷ drive 20160 7 0x08001 ∷ drive 20160 0 0x00a00 ∷ drive 20160 7 0x00000 ∷ drive 20160 0 0x04a00 ∷ drive 20160 7 0x00100 ∷ drive 20215 7 0x08100 ∷ drive 20215 0 0x00a00 ∷ drive 20215 7 0x00000 ∷ drive 20215 0 0x04a00 ∷ drive 20215 7 0x00100 ∷ drive 20270 7 0x08100 ∷ drive 20270 0 0x00a00 ∷ drive 20270 7 0x00000 ∷ drive 20270 0 0x04a00 ∷ drive 20270 7 0x00001 ∷ drive 20325 7 0x08001 ∷ drive 20325 0 0x00a00 ∷ drive 20325 7 0x00000 ∷ drive 20325 0 0x04a00 ∷ drive 20325 7 0x00100 ∷ drive 20380 7 0x08100 ∷ drive 20380 0 0x00a00 ∷ drive 20380 7 0x00000 ∷ drive 20380 0 0x01200 ∷ drive 21180 0 0x01243 ∷ drive 21235 0 0x05243 ∷ drive 21235 7 0x08000 ∷ drive 21235 0 0x01243 ∷ drive 21235 7 0x00000 ∷ drive 21290 0 0x05243 ∷ drive 21290 7 0x08000 ∷ drive 21290 0 0x01243 ∷ drive 21290 7 0x00000 ∷ drive 21345 0 0x05243 ∷ drive 21345 7 0x08000 ∷ drive 21345 0 0x01243 ∷ drive 21345 7 0x00000 ∷ drive 21400 0 0x05243 ∷ drive 21400 7 0x08000 ∷ drive 21400 0 0x01243 ∷ drive 21400 7 0x00000 ∷ drive 21455 0 0x05243 ∷ drive 21455 7 0x08000 ∷ drive 21455 0 0x01243 ∷ drive 21455 7 0x00000 ∷ drive 21510 0 0x05243 ∷ drive 21510 7 0x08000 ∷ drive 21510 0 0x01243 ∷ drive 21510 7 0x00000 ∷ drive 21565 0 0x05243 ∷ drive 21565 7 0x08000 ∷ drive 21565 0 0x01243 ∷ drive 21565 7 0x00000 ∷ drive 21620 0 0x05243 ∷ drive 21620 7 0x08000 ∷ drive 21620 0 0x01243 ∷ drive 21620 7 0x00000 ∷ drive 21675 0 0x05243 ∷ drive 21675 7 0x08000 ∷ drive 21675 0 0x01243 ∷ drive 21675 7 0x00000 ∷ drive 21730 0 0x05243 ∷ drive 21730 7 0x08000 ∷ drive 21730 0 0x01243 ∷ drive 21730 7 0x00000 ∷ drive 21785 0 0x05243 ∷ drive 21785 7 0x08000 ∷ drive 21785 0 0x01243 ∷ drive 21785 7 0x00000 ∷ drive 21840 0 0x05243 ∷ drive 21840 7 0x08000 ∷ drive 21840 0 0x01243 ∷ drive 21840 7 0x00000 ∷ drive 21895 0 0x05243 ∷ drive 21895 7 0x08000 ∷ drive 21895 0 0x01243 ∷ drive 21895 7 0x00000 ∷ drive 21950 0 0x05243 ∷ drive 21950 7 0x08000 ∷ drive 21950 0 0x01243 ∷ drive 21950 7 0x00000 ∷ drive 22005 0 0x05243 ∷ drive 22005 7 0x08000 ∷ drive 22005 0 0x01243 ∷ drive 22005 7 0x00000 ∷ drive 22060 0 0x05243 ∷ drive 22060 7 0x08000 ∷ drive 22060 0 0x01200 ∷ drive 22060 7 0x00000 ∷ drive 22060 0 0x01b00 ∷ drive 22460 0 0x05b00 ∷ drive 22460 7 0x08000 ∷ drive 22460 0 0x01a00 ∷ drive 22460 7 0x00000 ∷ drive 22460 0 0x03b00 ∷ drive 22860 0 0x07b00 ∷ drive 22860 7 0x08000 ∷ drive 22860 0 0x03a00 ∷ drive 22860 7 0x00000 ∷ drive 22860 0 0x00000 ∷ []

abbrev check_without_sense_due_events : List Event
check_without_sense_due_events = events.Accept (command 1) ∷ events.Run (command 1) ∷ events.End (command 1) 2 ∷ events.Aborted 7 0 0 aborts.All ∷ events.Accept (command 2) ∷ events.Run (command 2) ∷ events.End (command 2) 0 ∷ []

abbrev pub check_without_sense_due_shown : Shows
check_without_sense_due_shown = record { rows = reverse check_without_sense_due_rows; history = reverse check_without_sense_due_events; ended = true }

-- ---- length_changed_by_another_due

abbrev pub length_changed_by_another_due : ScenarioValue
length_changed_by_another_due = record {
  version = 3;
  hosts = record { dev = 7; latency = 0; most = 2; retries = 2; period = 0; offset = 0; lag = 0; offers = true } ∷ record { dev = 6; latency = 0; most = 2; retries = 2; period = 0; offset = 0; lag = 0; offers = true } ∷ [];
  targets = record { dev = 0; latency = 0; retries = 2; disc = policies.Command; pick = picks.Last; seek = 30000; period = 0; offset = 0; begins = false } ∷ [];
  units = [];
  fills = [];
  tapes = record { target = 0; unit = 0; objects = 12; size = 16; depth = 8 } ∷ [];
  loads = record { target = 0; unit = 0; what = loads.Block (65 ∷ 65 ∷ 65 ∷ 65 ∷ 65 ∷ 65 ∷ 65 ∷ 65 ∷ 65 ∷ 65 ∷ 65 ∷ 65 ∷ 65 ∷ 65 ∷ 65 ∷ 65 ∷ []) } ∷ record { target = 0; unit = 0; what = loads.Block (66 ∷ 66 ∷ 66 ∷ 66 ∷ 66 ∷ 66 ∷ 66 ∷ 66 ∷ 66 ∷ 66 ∷ 66 ∷ 66 ∷ 66 ∷ 66 ∷ 66 ∷ 66 ∷ []) } ∷ record { target = 0; unit = 0; what = loads.Mark } ∷ record { target = 0; unit = 0; what = loads.Block (67 ∷ 67 ∷ 67 ∷ 67 ∷ 67 ∷ 67 ∷ 67 ∷ 67 ∷ 67 ∷ 67 ∷ 67 ∷ 67 ∷ 67 ∷ 67 ∷ 67 ∷ 67 ∷ []) } ∷ record { target = 0; unit = 0; what = loads.Mark } ∷ record { target = 0; unit = 0; what = loads.Mark } ∷ record { target = 0; unit = 0; what = loads.Block (68 ∷ 68 ∷ 68 ∷ 68 ∷ 68 ∷ 68 ∷ 68 ∷ 68 ∷ 68 ∷ 68 ∷ 68 ∷ 68 ∷ 68 ∷ 68 ∷ 68 ∷ 68 ∷ []) } ∷ [];
  commands = record { host = 7; target = 0; unit = 0; at = 0; tag = tags.Simple 1; cdb = (17 ∷ 0 ∷ 0 ∷ 0 ∷ 1 ∷ 0 ∷ []); payload = payloads.Nothing } ∷ record { host = 7; target = 0; unit = 0; at = 0; tag = tags.Simple 2; cdb = (8 ∷ 1 ∷ 0 ∷ 0 ∷ 3 ∷ 0 ∷ []); payload = payloads.Nothing } ∷ record { host = 6; target = 0; unit = 0; at = 0; tag = tags.Simple 1; cdb = (1 ∷ 0 ∷ 0 ∷ 0 ∷ 0 ∷ 0 ∷ []); payload = payloads.Nothing } ∷ [];
  aborts = [];
  resets = [];
  faults = [];
}

abbrev pub length_changed_by_another_due_rows : List Row
length_changed_by_another_due_rows = drive 1200 7 0x00280 ∷ drive 1200 6 0x00240 ∷ drive 3600 7 0x00680 ∷ drive 3600 6 0x00000 ∷ drive 4800 7 0x10781 ∷ drive 4890 7 0x10581 ∷ drive 5290 0 0x00200 ∷ drive 5380 7 0x10000 ∷ drive 5380 0 0x02a00 ∷ drive 5780 0 0x06a00 ∷ drive 5780 7 0x101c0 ∷ drive 5835 7 0x181c0 ∷ drive 5835 0 0x02a00 ∷ drive 5835 7 0x10000 ∷ drive 5835 0 0x06a00 ∷ drive 5835 7 0x10020 ∷ drive 5890 7 0x18020 ∷ drive 5890 0 0x02a00 ∷ drive 5890 7 0x10000 ∷ drive 5890 0 0x06a00 ∷ drive 5890 7 0x00001 ∷ drive 5980 7 0x08001 ∷ drive 5980 0 0x02a00 ∷ drive 5980 7 0x00000 ∷ drive 5980 0 0x00a00 ∷ drive 6380 0 0x04a00 ∷ drive 6380 7 0x00111 ∷ drive 6435 7 0x08111 ∷ drive 6435 0 0x00a00 ∷ drive 6435 7 0x00000 ∷ drive 6435 0 0x04a00 ∷ drive 6435 7 0x00100 ∷ drive 6490 7 0x08100 ∷ drive 6490 0 0x00a00 ∷ drive 6490 7 0x00000 ∷ drive 6490 0 0x04a00 ∷ drive 6490 7 0x00100 ∷ drive 6545 7 0x08100 ∷ drive 6545 0 0x00a00 ∷ drive 6545 7 0x00000 ∷ drive 6545 0 0x04a00 ∷ drive 6545 7 0x00100 ∷ drive 6600 7 0x08100 ∷ drive 6600 0 0x00a00 ∷ drive 6600 7 0x00000 ∷ drive 6600 0 0x04a00 ∷ drive 6600 7 0x00001 ∷ drive 6655 7 0x08001 ∷ drive 6655 0 0x00a00 ∷ drive 6655 7 0x00000 ∷ drive 6655 0 0x04a00 ∷ drive 6655 7 0x00100 ∷ drive 6710 7 0x08100 ∷ drive 6710 0 0x00a00 ∷ drive 6710 7 0x00000 ∷ drive 6710 0 0x03a00 ∷ drive 7510 0 0x03a04 ∷ drive 7565 0 0x07a04 ∷ drive 7565 7 0x08000 ∷ drive 7565 0 0x03a00 ∷ drive 7565 7 0x00000 ∷ drive 7565 0 0x00000 ∷ drive 8765 7 0x00280 ∷ drive 8765 6 0x00240 ∷ drive 11165 7 0x00680 ∷ drive 11165 6 0x00000 ∷ drive 12365 7 0x10781 ∷ drive 12455 7 0x10581 ∷ drive 12855 0 0x00200 ∷ drive 12945 7 0x10000 ∷ drive 12945 0 0x02a00 ∷ drive 13345 0 0x06a00 ∷ drive 13345 7 0x101c0 ∷ drive 13400 7 0x181c0 ∷ drive 13400 0 0x02a00 ∷ drive 13400 7 0x10000 ∷ drive 13400 0 0x06a00 ∷ drive 13400 7 0x10020 ∷ drive 13455 7 0x18020 ∷ drive 13455 0 0x02a00 ∷ drive 13455 7 0x10000 ∷ drive 13455 0 0x06a00 ∷ drive 13455 7 0x00002 ∷ drive 13545 7 0x08002 ∷ drive 13545 0 0x02a00 ∷ drive 13545 7 0x00000 ∷ drive 13545 0 0x00a00 ∷ drive 13945 0 0x04a00 ∷ drive 13945 7 0x00008 ∷ drive 14000 7 0x08008 ∷ drive 14000 0 0x00a00 ∷ drive 14000 7 0x00000 ∷ drive 14000 0 0x04a00 ∷ drive 14000 7 0x00001 ∷ drive 14055 7 0x08001 ∷ drive 14055 0 0x00a00 ∷ drive 14055 7 0x00000 ∷ drive 14055 0 0x04a00 ∷ drive 14055 7 0x00100 ∷ drive 14110 7 0x08100 ∷ drive 14110 0 0x00a00 ∷ drive 14110 7 0x00000 ∷ drive 14110 0 0x04a00 ∷ drive 14110 7 0x00100 ∷ drive 14165 7 0x08100 ∷ drive 14165 0 0x00a00 ∷ drive 14165 7 0x00000 ∷ drive 14165 0 0x04a00 ∷ drive 14165 7 0x00103 ∷ drive 14220 7 0x08103 ∷ drive 14220 0 0x00a00 ∷ drive 14220 7 0x00000 ∷ drive 14220 0 0x04a00 ∷ drive 14220 7 0x00100 ∷ drive 14275 7 0x08100 ∷ drive 14275 0 0x00a00 ∷ drive 14275 7 0x00000 ∷ drive 14275 0 0x03a00 ∷ drive 15075 0 0x03a04 ∷ drive 15130 0 0x07a04 ∷ drive 15130 7 0x08000 ∷ drive 15130 0 0x03a00 ∷ drive 15130 7 0x00000 ∷ drive 15130 0 0x00000 ∷ drive 16330 6 0x00240 ∷ drive 18730 6 0x00640 ∷ drive 19930 6 0x10741 ∷ drive 20020 6 0x10541 ∷ drive 20420 0 0x00200 ∷ drive 20510 6 0x10000 ∷ drive 20510 0 0x02a00 ∷ drive 20910 0 0x06a00 ∷ drive 20910 6 0x101c0 ∷ drive 20965 6 0x181c0 ∷ drive 20965 0 0x02a00 ∷ drive 20965 6 0x10000 ∷ drive 20965 0 0x06a00 ∷ drive 20965 6 0x10020 ∷ drive 21020 6 0x18020 ∷ drive 21020 0 0x02a00 ∷ drive 21020 6 0x10000 ∷ drive 21020 0 0x06a00 ∷ drive 21020 6 0x00001 ∷ drive 21110 6 0x08001 ∷ drive 21110 0 0x02a00 ∷ drive 21110 6 0x00000 ∷ drive 21110 0 0x00a00 ∷ drive 21510 0 0x04a00 ∷ drive 21510 6 0x00001 ∷ drive 21565 6 0x08001 ∷ drive 21565 0 0x00a00 ∷ drive 21565 6 0x00000 ∷ drive 21565 0 0x04a00 ∷ drive 21565 6 0x00100 ∷ drive 21620 6 0x08100 ∷ drive 21620 0 0x00a00 ∷ drive 21620 6 0x00000 ∷ drive 21620 0 0x04a00 ∷ drive 21620 6 0x00100 ∷ drive 21675 6 0x08100 ∷ drive 21675 0 0x00a00 ∷ drive 21675 6 0x00000 ∷ drive 21675 0 0x04a00 ∷ drive 21675 6 0x00100 ∷ drive 21730 6 0x08100 ∷ drive 21730 0 0x00a00 ∷ drive 21730 6 0x00000 ∷ drive 21730 0 0x04a00 ∷ drive 21730 6 0x00100 ∷ drive 21785 6 0x08100 ∷ drive 21785 0 0x00a00 ∷ drive 21785 6 0x00000 ∷ drive 21785 0 0x04a00 ∷ drive 21785 6 0x00100 ∷ drive 21840 6 0x08100 ∷ drive 21840 0 0x00a00 ∷ drive 21840 6 0x00000 ∷ drive 21840 0 0x03a00 ∷ drive 22640 0 0x03a04 ∷ drive 22695 0 0x07a04 ∷ drive 22695 6 0x08000 ∷ drive 22695 0 0x03a00 ∷ drive 22695 6 0x00000 ∷ drive 22695 0 0x00000 ∷ drive 36710 0 0x00201 ∷ drive 39110 0 0x00601 ∷ drive 40310 0 0x01781 ∷ drive 40400 0 0x01581 ∷ drive 40800 7 0x00200 ∷ drive 40800 0 0x01781 ∷ drive 40890 0 0x03a80 ∷ drive 40890 7 0x00000 ∷ drive 41290 0 0x07a80 ∷ drive 41290 7 0x08000 ∷ drive 41290 0 0x03a20 ∷ drive 41290 7 0x00000 ∷ drive 41345 0 0x07a20 ∷ drive 41345 7 0x08000 ∷ drive 41345 0 0x03a01 ∷ drive 41345 7 0x00000 ∷ drive 41400 0 0x07a01 ∷ drive 41400 7 0x08000 ∷ drive 41400 0 0x03a00 ∷ drive 41400 7 0x00000 ∷ drive 41400 0 0x01b00 ∷ drive 41800 0 0x05b00 ∷ drive 41800 7 0x08000 ∷ drive 41800 0 0x01a00 ∷ drive 41800 7 0x00000 ∷ drive 41800 0 0x03b00 ∷ drive 42200 0 0x07b00 ∷ drive 42200 7 0x08000 ∷ drive 42200 0 0x03a00 ∷ drive 42200 7 0x00000 ∷ drive 42200 0 0x00000 ∷ drive 72200 0 0x00201 ∷ drive 74600 0 0x00601 ∷ drive 75800 0 0x01741 ∷ drive 75890 0 0x01541 ∷ drive 76290 6 0x00200 ∷ drive 76290 0 0x01741 ∷ drive 76380 0 0x03a80 ∷ drive 76380 6 0x00000 ∷ drive 76780 0 0x07a80 ∷ drive 76780 6 0x08000 ∷ drive 76780 0 0x03a20 ∷ drive 76780 6 0x00000 ∷ drive 76835 0 0x07a20 ∷ drive 76835 6 0x08000 ∷ drive 76835 0 0x03a01 ∷ drive 76835 6 0x00000 ∷ drive 76890 0 0x07a01 ∷ drive 76890 6 0x08000 ∷ drive 76890 0 0x03a00 ∷ drive 76890 6 0x00000 ∷ drive 76890 0 0x01b00 ∷ drive 77290 0 0x05b00 ∷ drive 77290 6 0x08000 ∷ drive 77290 0 0x01a00 ∷ drive 77290 6 0x00000 ∷ drive 77290 0 0x03b00 ∷ drive 77690 0 0x07b00 ∷ drive 77690 6 0x08000 ∷ drive 77690 0 0x03a00 ∷ drive 77690 6 0x00000 ∷ drive 77690 0 0x00000 ∷ drive 107690 0 0x00201 ∷ drive 110090 0 0x00601 ∷ drive 111290 0 0x01781 ∷ drive 111380 0 0x01581 ∷ drive 111780 7 0x00200 ∷ drive 111780 0 0x01781 ∷ drive 111870 0 0x03a80 ∷ drive 111870 7 0x00000 ∷ drive 112270 0 0x07a80 ∷ drive 112270 7 0x08000 ∷ drive 112270 0 0x03a20 ∷ drive 112270 7 0x00000 ∷ drive 112325 0 0x07a20 ∷ drive 112325 7 0x08000 ∷ drive 112325 0 0x03a02 ∷ drive 112325 7 0x00000 ∷ drive 112380 0 0x07a02 ∷ drive 112380 7 0x08000 ∷ drive 112380 0 0x03a00 ∷ drive 112380 7 0x00000 ∷ drive 112380 0 0x01341 ∷ drive 112780 0 0x05341 ∷ drive 112780 7 0x08000 ∷ drive 112780 0 0x01341 ∷ drive 112780 7 0x00000 ∷ drive 112835 0 0x05341 ∷ drive 112835 7 0x08000 ∷ drive 112835 0 0x01341 ∷ drive 112835 7 0x00000 ∷ drive 112890 0 0x05341 ∷ drive 112890 7 0x08000 ∷ drive 112890 0 0x01341 ∷ drive 112890 7 0x00000 ∷ drive 112945 0 0x05341 ∷ drive 112945 7 0x08000 ∷ drive 112945 0 0x01341 ∷ drive 112945 7 0x00000 ∷ drive 113000 0 0x05341 ∷ drive 113000 7 0x08000 ∷ drive 113000 0 0x01341 ∷ drive 113000 7 0x00000 ∷ drive 113055 0 0x05341 ∷ drive 113055 7 0x08000 ∷ drive 113055 0 0x01341 ∷ drive 113055 7 0x00000 ∷ drive 113110 0 0x05341 ∷ drive 113110 7 0x08000 ∷ drive 113110 0 0x01341 ∷ drive 113110 7 0x00000 ∷ drive 113165 0 0x05341 ∷ drive 113165 7 0x08000 ∷ drive 113165 0 0x01341 ∷ drive 113165 7 0x00000 ∷ drive 113220 0 0x05341 ∷ drive 113220 7 0x08000 ∷ drive 113220 0 0x01341 ∷ drive 113220 7 0x00000 ∷ drive 113275 0 0x05341 ∷ drive 113275 7 0x08000 ∷ drive 113275 0 0x01341 ∷ drive 113275 7 0x00000 ∷ drive 113330 0 0x05341 ∷ drive 113330 7 0x08000 ∷ drive 113330 0 0x01341 ∷ drive 113330 7 0x00000 ∷ drive 113385 0 0x05341 ∷ drive 113385 7 0x08000 ∷ drive 113385 0 0x01341 ∷ drive 113385 7 0x00000 ∷ drive 113440 0 0x05341 ∷ drive 113440 7 0x08000 ∷ drive 113440 0 0x01341 ∷ drive 113440 7 0x00000 ∷ drive 113495 0 0x05341 ∷ drive 113495 7 0x08000 ∷ drive 113495 0 0x01341 ∷ drive 113495 7 0x00000 ∷ drive 113550 0 0x05341 ∷ drive 113550 7 0x08000 ∷ drive 113550 0 0x01341 ∷ drive 113550 7 0x00000 ∷ drive 113605 0 0x05341 ∷ drive 113605 7 0x08000 ∷ drive 113605 0 0x01342 ∷ drive 113605 7 0x00000 ∷ drive 113660 0 0x05342 ∷ drive 113660 7 0x08000 ∷ drive 113660 0 0x01342 ∷ drive 113660 7 0x00000 ∷ drive 113715 0 0x05342 ∷ drive 113715 7 0x08000 ∷ drive 113715 0 0x01342 ∷ drive 113715 7 0x00000 ∷ drive 113770 0 0x05342 ∷ drive 113770 7 0x08000 ∷ drive 113770 0 0x01342 ∷ drive 113770 7 0x00000 ∷ drive 113825 0 0x05342 ∷ drive 113825 7 0x08000 ∷ drive 113825 0 0x01342 ∷ drive 113825 7 0x00000 ∷ drive 113880 0 0x05342 ∷ drive 113880 7 0x08000 ∷ drive 113880 0 0x01342 ∷ drive 113880 7 0x00000 ∷ drive 113935 0 0x05342 ∷ drive 113935 7 0x08000 ∷ drive 113935 0 0x01342 ∷ drive 113935 7 0x00000 ∷ drive 113990 0 0x05342 ∷ drive 113990 7 0x08000 ∷ drive 113990 0 0x01342 ∷ drive 113990 7 0x00000 ∷ drive 114045 0 0x05342 ∷ drive 114045 7 0x08000 ∷ drive 114045 0 0x01342 ∷ drive 114045 7 0x00000 ∷ drive 114100 0 0x05342 ∷ drive 114100 7 0x08000 ∷ drive 114100 0 0x01342 ∷ drive 114100 7 0x00000 ∷ drive 114155 0 0x05342 ∷ drive 114155 7 0x08000 ∷ drive 114155 0 0x01342 ∷ drive 114155 7 0x00000 ∷ drive 114210 0 0x05342 ∷ drive 114210 7 0x08000 ∷ drive 114210 0 0x01342 ∷ drive 114210 7 0x00000 ∷ drive 114265 0 0x05342 ∷ drive 114265 7 0x08000 ∷ drive 114265 0 0x01342 ∷ drive 114265 7 0x00000 ∷ drive 114320 0 0x05342 ∷ drive 114320 7 0x08000 ∷ drive 114320 0 0x01342 ∷ drive 114320 7 0x00000 ∷ drive 114375 0 0x05342 ∷ drive 114375 7 0x08000 ∷ drive 114375 0 0x01342 ∷ drive 114375 7 0x00000 ∷ drive 114430 0 0x05342 ∷ drive 114430 7 0x08000 ∷ drive 114430 0 0x01342 ∷ drive 114430 7 0x00000 ∷ drive 114485 0 0x05342 ∷ drive 114485 7 0x08000 ∷ drive 114485 0 0x01200 ∷ drive 114485 7 0x00000 ∷ drive 114485 0 0x01a02 ∷ drive 114885 0 0x05a02 ∷ drive 114885 7 0x08000 ∷ drive 114885 0 0x01a00 ∷ drive 114885 7 0x00000 ∷ drive 114885 0 0x03b00 ∷ drive 115285 0 0x07b00 ∷ drive 115285 7 0x08000 ∷ drive 115285 0 0x03a00 ∷ drive 115285 7 0x00000 ∷ drive 115285 0 0x00000 ∷ drive 116485 7 0x00280 ∷ drive 118885 7 0x00680 ∷ drive 120085 7 0x10781 ∷ drive 120175 7 0x10581 ∷ drive 120575 0 0x00200 ∷ drive 120665 7 0x10000 ∷ drive 120665 0 0x02a00 ∷ drive 121065 0 0x06a00 ∷ drive 121065 7 0x00080 ∷ drive 121155 7 0x08080 ∷ drive 121155 0 0x02a00 ∷ drive 121155 7 0x00000 ∷ drive 121155 0 0x00a00 ∷ drive 121555 0 0x04a00 ∷ drive 121555 7 0x00103 ∷ drive 121610 7 0x08103 ∷ drive 121610 0 0x00a00 ∷ drive 121610 7 0x00000 ∷ drive 121610 0 0x04a00 ∷ drive 121610 7 0x00100 ∷ drive 121665 7 0x08100 ∷ drive 121665 0 0x00a00 ∷ drive 121665 7 0x00000 ∷ drive 121665 0 0x04a00 ∷ drive 121665 7 0x00100 ∷ drive 121720 7 0x08100 ∷ drive 121720 0 0x00a00 ∷ drive 121720 7 0x00000 ∷ drive 121720 0 0x04a00 ∷ drive 121720 7 0x00100 ∷ drive 121775 7 0x08100 ∷ drive 121775 0 0x00a00 ∷ drive 121775 7 0x00000 ∷ drive 121775 0 0x04a00 ∷ drive 121775 7 0x00112 ∷ drive 121830 7 0x08112 ∷ drive 121830 0 0x00a00 ∷ drive 121830 7 0x00000 ∷ drive 121830 0 0x04a00 ∷ drive 121830 7 0x00100 ∷ drive 121885 7 0x08100 ∷ drive 121885 0 0x00a00 ∷ drive 121885 7 0x00000 ∷ drive 121885 0 0x01200 ∷ drive 122685 0 0x013f0 ∷ drive 122740 0 0x053f0 ∷ drive 122740 7 0x08000 ∷ drive 122740 0 0x01300 ∷ drive 122740 7 0x00000 ∷ drive 122795 0 0x05300 ∷ drive 122795 7 0x08000 ∷ drive 122795 0 0x01280 ∷ drive 122795 7 0x00000 ∷ drive 122850 0 0x05280 ∷ drive 122850 7 0x08000 ∷ drive 122850 0 0x01300 ∷ drive 122850 7 0x00000 ∷ drive 122905 0 0x05300 ∷ drive 122905 7 0x08000 ∷ drive 122905 0 0x01300 ∷ drive 122905 7 0x00000 ∷ drive 122960 0 0x05300 ∷ drive 122960 7 0x08000 ∷ drive 122960 0 0x01300 ∷ drive 122960 7 0x00000 ∷ drive 123015 0 0x05300 ∷ drive 123015 7 0x08000 ∷ drive 123015 0 0x01201 ∷ drive 123015 7 0x00000 ∷ drive 123070 0 0x05201 ∷ drive 123070 7 0x08000 ∷ drive 123070 0 0x0130a ∷ drive 123070 7 0x00000 ∷ drive 123125 0 0x0530a ∷ drive 123125 7 0x08000 ∷ drive 123125 0 0x01300 ∷ drive 123125 7 0x00000 ∷ drive 123180 0 0x05300 ∷ drive 123180 7 0x08000 ∷ drive 123180 0 0x01300 ∷ drive 123180 7 0x00000 ∷ drive 123235 0 0x05300 ∷ drive 123235 7 0x08000 ∷ drive 123235 0 0x01300 ∷ drive 123235 7 0x00000 ∷ drive 123290 0 0x05300 ∷ drive 123290 7 0x08000 ∷ drive 123290 0 0x01300 ∷ drive 123290 7 0x00000 ∷ drive 123345 0 0x05300 ∷ drive 123345 7 0x08000 ∷ drive 123345 0 0x01300 ∷ drive 123345 7 0x00000 ∷ drive 123400 0 0x05300 ∷ drive 123400 7 0x08000 ∷ drive 123400 0 0x01201 ∷ drive 123400 7 0x00000 ∷ drive 123455 0 0x05201 ∷ drive 123455 7 0x08000 ∷ drive 123455 0 0x01300 ∷ drive 123455 7 0x00000 ∷ drive 123510 0 0x05300 ∷ drive 123510 7 0x08000 ∷ drive 123510 0 0x01300 ∷ drive 123510 7 0x00000 ∷ drive 123565 0 0x05300 ∷ drive 123565 7 0x08000 ∷ drive 123565 0 0x01300 ∷ drive 123565 7 0x00000 ∷ drive 123620 0 0x05300 ∷ drive 123620 7 0x08000 ∷ drive 123620 0 0x01300 ∷ drive 123620 7 0x00000 ∷ drive 123675 0 0x05300 ∷ drive 123675 7 0x08000 ∷ drive 123675 0 0x01200 ∷ drive 123675 7 0x00000 ∷ drive 123675 0 0x01b00 ∷ drive 124075 0 0x05b00 ∷ drive 124075 7 0x08000 ∷ drive 124075 0 0x01a00 ∷ drive 124075 7 0x00000 ∷ drive 124075 0 0x03b00 ∷ drive 124475 0 0x07b00 ∷ drive 124475 7 0x08000 ∷ drive 124475 0 0x03a00 ∷ drive 124475 7 0x00000 ∷ drive 124475 0 0x00000 ∷ []

abbrev length_changed_by_another_due_events : List Event
length_changed_by_another_due_events = events.Accept (command 1) ∷ events.Accept (command 2) ∷ events.Accept (command 3) ∷ events.Run (command 1) ∷ events.End (command 1) 0 ∷ events.Run (command 3) ∷ events.End (command 3) 0 ∷ events.Run (command 2) ∷ events.End (command 2) 2 ∷ events.Accept (sense 2) ∷ events.Run (sense 2) ∷ events.End (sense 2) 0 ∷ []

abbrev pub length_changed_by_another_due_shown : Shows
length_changed_by_another_due_shown = record { rows = reverse length_changed_by_another_due_rows; history = reverse length_changed_by_another_due_events; ended = true }

-- ---- lost_after_run_due

abbrev pub lost_after_run_due : ScenarioValue
lost_after_run_due = record {
  version = 3;
  hosts = record { dev = 7; latency = 0; most = 1; retries = 2; period = 0; offset = 0; lag = 0; offers = true } ∷ [];
  targets = record { dev = 0; latency = 0; retries = 0; disc = policies.Never; pick = picks.First; seek = 0; period = 0; offset = 0; begins = false } ∷ [];
  units = [];
  fills = [];
  tapes = record { target = 0; unit = 0; objects = 12; size = 16; depth = 1 } ∷ [];
  loads = record { target = 0; unit = 0; what = loads.Block (65 ∷ 65 ∷ 65 ∷ 65 ∷ 65 ∷ 65 ∷ 65 ∷ 65 ∷ 65 ∷ 65 ∷ 65 ∷ 65 ∷ 65 ∷ 65 ∷ 65 ∷ 65 ∷ []) } ∷ record { target = 0; unit = 0; what = loads.Block (66 ∷ 66 ∷ 66 ∷ 66 ∷ 66 ∷ 66 ∷ 66 ∷ 66 ∷ 66 ∷ 66 ∷ 66 ∷ 66 ∷ 66 ∷ 66 ∷ 66 ∷ 66 ∷ []) } ∷ record { target = 0; unit = 0; what = loads.Mark } ∷ record { target = 0; unit = 0; what = loads.Block (67 ∷ 67 ∷ 67 ∷ 67 ∷ 67 ∷ 67 ∷ 67 ∷ 67 ∷ 67 ∷ 67 ∷ 67 ∷ 67 ∷ 67 ∷ 67 ∷ 67 ∷ 67 ∷ []) } ∷ record { target = 0; unit = 0; what = loads.Mark } ∷ record { target = 0; unit = 0; what = loads.Mark } ∷ record { target = 0; unit = 0; what = loads.Block (68 ∷ 68 ∷ 68 ∷ 68 ∷ 68 ∷ 68 ∷ 68 ∷ 68 ∷ 68 ∷ 68 ∷ 68 ∷ 68 ∷ 68 ∷ 68 ∷ 68 ∷ 68 ∷ []) } ∷ [];
  commands = record { host = 7; target = 0; unit = 0; at = 0; tag = tags.Untagged; cdb = (8 ∷ 1 ∷ 0 ∷ 0 ∷ 1 ∷ 0 ∷ []); payload = payloads.Nothing } ∷ record { host = 7; target = 0; unit = 0; at = 0; tag = tags.Untagged; cdb = (8 ∷ 1 ∷ 0 ∷ 0 ∷ 1 ∷ 0 ∷ []); payload = payloads.Nothing } ∷ [];
  aborts = [];
  resets = [];
  faults = record { at = 8650; bit = 2 } ∷ [];
}

abbrev pub lost_after_run_due_rows : List Row
lost_after_run_due_rows = drive 1200 7 0x00280 ∷ drive 3600 7 0x00680 ∷ drive 4800 7 0x10781 ∷ drive 4890 7 0x10581 ∷ drive 5290 0 0x00200 ∷ drive 5380 7 0x10000 ∷ drive 5380 0 0x02a00 ∷ drive 5780 0 0x06a00 ∷ drive 5780 7 0x001c0 ∷ drive 5870 7 0x081c0 ∷ drive 5870 0 0x02a00 ∷ drive 5870 7 0x00000 ∷ drive 5870 0 0x00a00 ∷ drive 6270 0 0x04a00 ∷ drive 6270 7 0x00008 ∷ drive 6325 7 0x08008 ∷ drive 6325 0 0x00a00 ∷ drive 6325 7 0x00000 ∷ drive 6325 0 0x04a00 ∷ drive 6325 7 0x00001 ∷ drive 6380 7 0x08001 ∷ drive 6380 0 0x00a00 ∷ drive 6380 7 0x00000 ∷ drive 6380 0 0x04a00 ∷ drive 6380 7 0x00100 ∷ drive 6435 7 0x08100 ∷ drive 6435 0 0x00a00 ∷ drive 6435 7 0x00000 ∷ drive 6435 0 0x04a00 ∷ drive 6435 7 0x00100 ∷ drive 6490 7 0x08100 ∷ drive 6490 0 0x00a00 ∷ drive 6490 7 0x00000 ∷ drive 6490 0 0x04a00 ∷ drive 6490 7 0x00001 ∷ drive 6545 7 0x08001 ∷ drive 6545 0 0x00a00 ∷ drive 6545 7 0x00000 ∷ drive 6545 0 0x04a00 ∷ drive 6545 7 0x00100 ∷ drive 6600 7 0x08100 ∷ drive 6600 0 0x00a00 ∷ drive 6600 7 0x00000 ∷ drive 6600 0 0x01200 ∷ drive 7400 0 0x01341 ∷ drive 7455 0 0x05341 ∷ drive 7455 7 0x08000 ∷ drive 7455 0 0x01341 ∷ drive 7455 7 0x00000 ∷ drive 7510 0 0x05341 ∷ drive 7510 7 0x08000 ∷ drive 7510 0 0x01341 ∷ drive 7510 7 0x00000 ∷ drive 7565 0 0x05341 ∷ drive 7565 7 0x08000 ∷ drive 7565 0 0x01341 ∷ drive 7565 7 0x00000 ∷ drive 7620 0 0x05341 ∷ drive 7620 7 0x08000 ∷ drive 7620 0 0x01341 ∷ drive 7620 7 0x00000 ∷ drive 7675 0 0x05341 ∷ drive 7675 7 0x08000 ∷ drive 7675 0 0x01341 ∷ drive 7675 7 0x00000 ∷ drive 7730 0 0x05341 ∷ drive 7730 7 0x08000 ∷ drive 7730 0 0x01341 ∷ drive 7730 7 0x00000 ∷ drive 7785 0 0x05341 ∷ drive 7785 7 0x08000 ∷ drive 7785 0 0x01341 ∷ drive 7785 7 0x00000 ∷ drive 7840 0 0x05341 ∷ drive 7840 7 0x08000 ∷ drive 7840 0 0x01341 ∷ drive 7840 7 0x00000 ∷ drive 7895 0 0x05341 ∷ drive 7895 7 0x08000 ∷ drive 7895 0 0x01341 ∷ drive 7895 7 0x00000 ∷ drive 7950 0 0x05341 ∷ drive 7950 7 0x08000 ∷ drive 7950 0 0x01341 ∷ drive 7950 7 0x00000 ∷ drive 8005 0 0x05341 ∷ drive 8005 7 0x08000 ∷ drive 8005 0 0x01341 ∷ drive 8005 7 0x00000 ∷ drive 8060 0 0x05341 ∷ drive 8060 7 0x08000 ∷ drive 8060 0 0x01341 ∷ drive 8060 7 0x00000 ∷ drive 8115 0 0x05341 ∷ drive 8115 7 0x08000 ∷ drive 8115 0 0x01341 ∷ drive 8115 7 0x00000 ∷ drive 8170 0 0x05341 ∷ drive 8170 7 0x08000 ∷ drive 8170 0 0x01341 ∷ drive 8170 7 0x00000 ∷ drive 8225 0 0x05341 ∷ drive 8225 7 0x08000 ∷ drive 8225 0 0x01341 ∷ drive 8225 7 0x00000 ∷ drive 8280 0 0x05341 ∷ drive 8280 7 0x08000 ∷ drive 8280 0 0x01200 ∷ drive 8280 7 0x00000 ∷ drive 8280 0 0x01b00 ∷ drive 8680 0 0x05b00 ∷ strike 8680 7 2 ∷ drive 8680 7 0x18000 ∷ drive 8680 0 0x01a00 ∷ drive 8770 7 0x10000 ∷ drive 8770 0 0x02a00 ∷ drive 9170 0 0x06a00 ∷ drive 9170 7 0x00105 ∷ drive 9260 7 0x08105 ∷ drive 9260 0 0x02a00 ∷ drive 9260 7 0x00000 ∷ drive 9260 0 0x00000 ∷ drive 10460 7 0x00280 ∷ drive 12860 7 0x00680 ∷ drive 14060 7 0x10781 ∷ drive 14150 7 0x10581 ∷ drive 14550 0 0x00200 ∷ drive 14640 7 0x10000 ∷ drive 14640 0 0x02a00 ∷ drive 15040 0 0x06a00 ∷ drive 15040 7 0x001c0 ∷ drive 15130 7 0x081c0 ∷ drive 15130 0 0x02a00 ∷ drive 15130 7 0x00000 ∷ drive 15130 0 0x00a00 ∷ drive 15530 0 0x04a00 ∷ drive 15530 7 0x00008 ∷ drive 15585 7 0x08008 ∷ drive 15585 0 0x00a00 ∷ drive 15585 7 0x00000 ∷ drive 15585 0 0x04a00 ∷ drive 15585 7 0x00001 ∷ drive 15640 7 0x08001 ∷ drive 15640 0 0x00a00 ∷ drive 15640 7 0x00000 ∷ drive 15640 0 0x04a00 ∷ drive 15640 7 0x00100 ∷ drive 15695 7 0x08100 ∷ drive 15695 0 0x00a00 ∷ drive 15695 7 0x00000 ∷ drive 15695 0 0x04a00 ∷ drive 15695 7 0x00100 ∷ drive 15750 7 0x08100 ∷ drive 15750 0 0x00a00 ∷ drive 15750 7 0x00000 ∷ drive 15750 0 0x04a00 ∷ drive 15750 7 0x00001 ∷ drive 15805 7 0x08001 ∷ drive 15805 0 0x00a00 ∷ drive 15805 7 0x00000 ∷ drive 15805 0 0x04a00 ∷ drive 15805 7 0x00100 ∷ drive 15860 7 0x08100 ∷ drive 15860 0 0x00a00 ∷ drive 15860 7 0x00000 ∷ drive 15860 0 0x01200 ∷ drive 16660 0 0x01342 ∷ drive 16715 0 0x05342 ∷ drive 16715 7 0x08000 ∷ drive 16715 0 0x01342 ∷ drive 16715 7 0x00000 ∷ drive 16770 0 0x05342 ∷ drive 16770 7 0x08000 ∷ drive 16770 0 0x01342 ∷ drive 16770 7 0x00000 ∷ drive 16825 0 0x05342 ∷ drive 16825 7 0x08000 ∷ drive 16825 0 0x01342 ∷ drive 16825 7 0x00000 ∷ drive 16880 0 0x05342 ∷ drive 16880 7 0x08000 ∷ drive 16880 0 0x01342 ∷ drive 16880 7 0x00000 ∷ drive 16935 0 0x05342 ∷ drive 16935 7 0x08000 ∷ drive 16935 0 0x01342 ∷ drive 16935 7 0x00000 ∷ drive 16990 0 0x05342 ∷ drive 16990 7 0x08000 ∷ drive 16990 0 0x01342 ∷ drive 16990 7 0x00000 ∷ drive 17045 0 0x05342 ∷ drive 17045 7 0x08000 ∷ drive 17045 0 0x01342 ∷ drive 17045 7 0x00000 ∷ drive 17100 0 0x05342 ∷ drive 17100 7 0x08000 ∷ drive 17100 0 0x01342 ∷ drive 17100 7 0x00000 ∷ drive 17155 0 0x05342 ∷ drive 17155 7 0x08000 ∷ drive 17155 0 0x01342 ∷ drive 17155 7 0x00000 ∷ drive 17210 0 0x05342 ∷ drive 17210 7 0x08000 ∷ drive 17210 0 0x01342 ∷ drive 17210 7 0x00000 ∷ drive 17265 0 0x05342 ∷ drive 17265 7 0x08000 ∷ drive 17265 0 0x01342 ∷ drive 17265 7 0x00000 ∷ drive 17320 0 0x05342 ∷ drive 17320 7 0x08000 ∷ drive 17320 0 0x01342 ∷ drive 17320 7 0x00000 ∷ drive 17375 0 0x05342 ∷ drive 17375 7 0x08000 ∷ drive 17375 0 0x01342 ∷ drive 17375 7 0x00000 ∷ drive 17430 0 0x05342 ∷ drive 17430 7 0x08000 ∷ drive 17430 0 0x01342 ∷ drive 17430 7 0x00000 ∷ drive 17485 0 0x05342 ∷ drive 17485 7 0x08000 ∷ drive 17485 0 0x01342 ∷ drive 17485 7 0x00000 ∷ drive 17540 0 0x05342 ∷ drive 17540 7 0x08000 ∷ drive 17540 0 0x01200 ∷ drive 17540 7 0x00000 ∷ drive 17540 0 0x01b00 ∷ drive 17940 0 0x05b00 ∷ drive 17940 7 0x08000 ∷ drive 17940 0 0x01a00 ∷ drive 17940 7 0x00000 ∷ drive 17940 0 0x03b00 ∷ drive 18340 0 0x07b00 ∷ drive 18340 7 0x08000 ∷ drive 18340 0 0x03a00 ∷ drive 18340 7 0x00000 ∷ drive 18340 0 0x00000 ∷ []

abbrev lost_after_run_due_events : List Event
lost_after_run_due_events = events.Accept (command 1) ∷ events.Run (command 1) ∷ events.Lost (command 1) ∷ events.Accept (command 2) ∷ events.Run (command 2) ∷ events.End (command 2) 0 ∷ []

abbrev pub lost_after_run_due_shown : Shows
lost_after_run_due_shown = record { rows = reverse lost_after_run_due_rows; history = reverse lost_after_run_due_events; ended = true }

-- ---- read_given_up_due

abbrev pub read_given_up_due : ScenarioValue
read_given_up_due = record {
  version = 3;
  hosts = record { dev = 7; latency = 0; most = 1; retries = 2; period = 0; offset = 0; lag = 0; offers = true } ∷ [];
  targets = record { dev = 0; latency = 0; retries = 0; disc = policies.Never; pick = picks.First; seek = 0; period = 0; offset = 0; begins = false } ∷ [];
  units = [];
  fills = [];
  tapes = record { target = 0; unit = 0; objects = 12; size = 16; depth = 1 } ∷ [];
  loads = record { target = 0; unit = 0; what = loads.Block (65 ∷ 65 ∷ 65 ∷ 65 ∷ 65 ∷ 65 ∷ 65 ∷ 65 ∷ 65 ∷ 65 ∷ 65 ∷ 65 ∷ 65 ∷ 65 ∷ 65 ∷ 65 ∷ []) } ∷ record { target = 0; unit = 0; what = loads.Block (66 ∷ 66 ∷ 66 ∷ 66 ∷ 66 ∷ 66 ∷ 66 ∷ 66 ∷ 66 ∷ 66 ∷ 66 ∷ 66 ∷ 66 ∷ 66 ∷ 66 ∷ 66 ∷ []) } ∷ record { target = 0; unit = 0; what = loads.Mark } ∷ record { target = 0; unit = 0; what = loads.Block (67 ∷ 67 ∷ 67 ∷ 67 ∷ 67 ∷ 67 ∷ 67 ∷ 67 ∷ 67 ∷ 67 ∷ 67 ∷ 67 ∷ 67 ∷ 67 ∷ 67 ∷ 67 ∷ []) } ∷ record { target = 0; unit = 0; what = loads.Mark } ∷ record { target = 0; unit = 0; what = loads.Mark } ∷ record { target = 0; unit = 0; what = loads.Block (68 ∷ 68 ∷ 68 ∷ 68 ∷ 68 ∷ 68 ∷ 68 ∷ 68 ∷ 68 ∷ 68 ∷ 68 ∷ 68 ∷ 68 ∷ 68 ∷ 68 ∷ 68 ∷ []) } ∷ [];
  commands = record { host = 7; target = 0; unit = 0; at = 0; tag = tags.Untagged; cdb = (8 ∷ 1 ∷ 0 ∷ 0 ∷ 3 ∷ 0 ∷ []); payload = payloads.Nothing } ∷ record { host = 7; target = 0; unit = 0; at = 0; tag = tags.Untagged; cdb = (8 ∷ 1 ∷ 0 ∷ 0 ∷ 3 ∷ 0 ∷ []); payload = payloads.Nothing } ∷ [];
  aborts = [];
  resets = [];
  faults = record { at = 7500; bit = 0 } ∷ [];
}

abbrev pub read_given_up_due_rows : List Row
read_given_up_due_rows = drive 1200 7 0x00280 ∷ drive 3600 7 0x00680 ∷ drive 4800 7 0x10781 ∷ drive 4890 7 0x10581 ∷ drive 5290 0 0x00200 ∷ drive 5380 7 0x10000 ∷ drive 5380 0 0x02a00 ∷ drive 5780 0 0x06a00 ∷ drive 5780 7 0x001c0 ∷ drive 5870 7 0x081c0 ∷ drive 5870 0 0x02a00 ∷ drive 5870 7 0x00000 ∷ drive 5870 0 0x00a00 ∷ drive 6270 0 0x04a00 ∷ drive 6270 7 0x00008 ∷ drive 6325 7 0x08008 ∷ drive 6325 0 0x00a00 ∷ drive 6325 7 0x00000 ∷ drive 6325 0 0x04a00 ∷ drive 6325 7 0x00001 ∷ drive 6380 7 0x08001 ∷ drive 6380 0 0x00a00 ∷ drive 6380 7 0x00000 ∷ drive 6380 0 0x04a00 ∷ drive 6380 7 0x00100 ∷ drive 6435 7 0x08100 ∷ drive 6435 0 0x00a00 ∷ drive 6435 7 0x00000 ∷ drive 6435 0 0x04a00 ∷ drive 6435 7 0x00100 ∷ drive 6490 7 0x08100 ∷ drive 6490 0 0x00a00 ∷ drive 6490 7 0x00000 ∷ drive 6490 0 0x04a00 ∷ drive 6490 7 0x00103 ∷ drive 6545 7 0x08103 ∷ drive 6545 0 0x00a00 ∷ drive 6545 7 0x00000 ∷ drive 6545 0 0x04a00 ∷ drive 6545 7 0x00100 ∷ drive 6600 7 0x08100 ∷ drive 6600 0 0x00a00 ∷ drive 6600 7 0x00000 ∷ drive 6600 0 0x01200 ∷ drive 7400 0 0x01341 ∷ drive 7455 0 0x05341 ∷ drive 7455 7 0x08000 ∷ drive 7455 0 0x01341 ∷ drive 7455 7 0x00000 ∷ drive 7510 0 0x05341 ∷ strike 7510 7 0 ∷ drive 7510 7 0x18000 ∷ drive 7510 0 0x01341 ∷ drive 7600 7 0x10000 ∷ drive 7600 0 0x05341 ∷ drive 7600 7 0x18000 ∷ drive 7600 0 0x01341 ∷ drive 7600 7 0x10000 ∷ drive 7655 0 0x05341 ∷ drive 7655 7 0x18000 ∷ drive 7655 0 0x01341 ∷ drive 7655 7 0x10000 ∷ drive 7710 0 0x05341 ∷ drive 7710 7 0x18000 ∷ drive 7710 0 0x01341 ∷ drive 7710 7 0x10000 ∷ drive 7765 0 0x05341 ∷ drive 7765 7 0x18000 ∷ drive 7765 0 0x01341 ∷ drive 7765 7 0x10000 ∷ drive 7820 0 0x05341 ∷ drive 7820 7 0x18000 ∷ drive 7820 0 0x01341 ∷ drive 7820 7 0x10000 ∷ drive 7875 0 0x05341 ∷ drive 7875 7 0x18000 ∷ drive 7875 0 0x01341 ∷ drive 7875 7 0x10000 ∷ drive 7930 0 0x05341 ∷ drive 7930 7 0x18000 ∷ drive 7930 0 0x01341 ∷ drive 7930 7 0x10000 ∷ drive 7985 0 0x05341 ∷ drive 7985 7 0x18000 ∷ drive 7985 0 0x01341 ∷ drive 7985 7 0x10000 ∷ drive 8040 0 0x05341 ∷ drive 8040 7 0x18000 ∷ drive 8040 0 0x01341 ∷ drive 8040 7 0x10000 ∷ drive 8095 0 0x05341 ∷ drive 8095 7 0x18000 ∷ drive 8095 0 0x01341 ∷ drive 8095 7 0x10000 ∷ drive 8150 0 0x05341 ∷ drive 8150 7 0x18000 ∷ drive 8150 0 0x01341 ∷ drive 8150 7 0x10000 ∷ drive 8205 0 0x05341 ∷ drive 8205 7 0x18000 ∷ drive 8205 0 0x01341 ∷ drive 8205 7 0x10000 ∷ drive 8260 0 0x05341 ∷ drive 8260 7 0x18000 ∷ drive 8260 0 0x01341 ∷ drive 8260 7 0x10000 ∷ drive 8315 0 0x05341 ∷ drive 8315 7 0x18000 ∷ drive 8315 0 0x01342 ∷ drive 8315 7 0x10000 ∷ drive 8370 0 0x05342 ∷ drive 8370 7 0x18000 ∷ drive 8370 0 0x01342 ∷ drive 8370 7 0x10000 ∷ drive 8425 0 0x05342 ∷ drive 8425 7 0x18000 ∷ drive 8425 0 0x01342 ∷ drive 8425 7 0x10000 ∷ drive 8480 0 0x05342 ∷ drive 8480 7 0x18000 ∷ drive 8480 0 0x01342 ∷ drive 8480 7 0x10000 ∷ drive 8535 0 0x05342 ∷ drive 8535 7 0x18000 ∷ drive 8535 0 0x01342 ∷ drive 8535 7 0x10000 ∷ drive 8590 0 0x05342 ∷ drive 8590 7 0x18000 ∷ drive 8590 0 0x01342 ∷ drive 8590 7 0x10000 ∷ drive 8645 0 0x05342 ∷ drive 8645 7 0x18000 ∷ drive 8645 0 0x01342 ∷ drive 8645 7 0x10000 ∷ drive 8700 0 0x05342 ∷ drive 8700 7 0x18000 ∷ drive 8700 0 0x01342 ∷ drive 8700 7 0x10000 ∷ drive 8755 0 0x05342 ∷ drive 8755 7 0x18000 ∷ drive 8755 0 0x01342 ∷ drive 8755 7 0x10000 ∷ drive 8810 0 0x05342 ∷ drive 8810 7 0x18000 ∷ drive 8810 0 0x01342 ∷ drive 8810 7 0x10000 ∷ drive 8865 0 0x05342 ∷ drive 8865 7 0x18000 ∷ drive 8865 0 0x01342 ∷ drive 8865 7 0x10000 ∷ drive 8920 0 0x05342 ∷ drive 8920 7 0x18000 ∷ drive 8920 0 0x01342 ∷ drive 8920 7 0x10000 ∷ drive 8975 0 0x05342 ∷ drive 8975 7 0x18000 ∷ drive 8975 0 0x01342 ∷ drive 8975 7 0x10000 ∷ drive 9030 0 0x05342 ∷ drive 9030 7 0x18000 ∷ drive 9030 0 0x01342 ∷ drive 9030 7 0x10000 ∷ drive 9085 0 0x05342 ∷ drive 9085 7 0x18000 ∷ drive 9085 0 0x01342 ∷ drive 9085 7 0x10000 ∷ drive 9140 0 0x05342 ∷ drive 9140 7 0x18000 ∷ drive 9140 0 0x01342 ∷ drive 9140 7 0x10000 ∷ drive 9195 0 0x05342 ∷ drive 9195 7 0x18000 ∷ drive 9195 0 0x01200 ∷ drive 9195 7 0x10000 ∷ drive 9195 0 0x02a00 ∷ drive 9595 0 0x06a00 ∷ drive 9595 7 0x00105 ∷ drive 9685 7 0x08105 ∷ drive 9685 0 0x02a00 ∷ drive 9685 7 0x00000 ∷ drive 9685 0 0x01a00 ∷ drive 10485 0 0x01a02 ∷ drive 10540 0 0x05a02 ∷ drive 10540 7 0x08000 ∷ drive 10540 0 0x01a00 ∷ drive 10540 7 0x00000 ∷ drive 10540 0 0x03b00 ∷ drive 10940 0 0x07b00 ∷ drive 10940 7 0x08000 ∷ drive 10940 0 0x03a00 ∷ drive 10940 7 0x00000 ∷ drive 10940 0 0x00000 ∷ drive 12140 7 0x00280 ∷ drive 14540 7 0x00680 ∷ drive 15740 7 0x10781 ∷ drive 15830 7 0x10581 ∷ drive 16230 0 0x00200 ∷ drive 16320 7 0x10000 ∷ drive 16320 0 0x02a00 ∷ drive 16720 0 0x06a00 ∷ drive 16720 7 0x00080 ∷ drive 16810 7 0x08080 ∷ drive 16810 0 0x02a00 ∷ drive 16810 7 0x00000 ∷ drive 16810 0 0x00a00 ∷ drive 17210 0 0x04a00 ∷ drive 17210 7 0x00103 ∷ drive 17265 7 0x08103 ∷ drive 17265 0 0x00a00 ∷ drive 17265 7 0x00000 ∷ drive 17265 0 0x04a00 ∷ drive 17265 7 0x00100 ∷ drive 17320 7 0x08100 ∷ drive 17320 0 0x00a00 ∷ drive 17320 7 0x00000 ∷ drive 17320 0 0x04a00 ∷ drive 17320 7 0x00100 ∷ drive 17375 7 0x08100 ∷ drive 17375 0 0x00a00 ∷ drive 17375 7 0x00000 ∷ drive 17375 0 0x04a00 ∷ drive 17375 7 0x00100 ∷ drive 17430 7 0x08100 ∷ drive 17430 0 0x00a00 ∷ drive 17430 7 0x00000 ∷ drive 17430 0 0x04a00 ∷ drive 17430 7 0x00112 ∷ drive 17485 7 0x08112 ∷ drive 17485 0 0x00a00 ∷ drive 17485 7 0x00000 ∷ drive 17485 0 0x04a00 ∷ drive 17485 7 0x00100 ∷ drive 17540 7 0x08100 ∷ drive 17540 0 0x00a00 ∷ drive 17540 7 0x00000 ∷ drive 17540 0 0x01200 ∷ drive 18340 0 0x01270 ∷ drive 18395 0 0x05270 ∷ drive 18395 7 0x08000 ∷ drive 18395 0 0x01300 ∷ drive 18395 7 0x00000 ∷ drive 18450 0 0x05300 ∷ drive 18450 7 0x08000 ∷ drive 18450 0 0x0120b ∷ drive 18450 7 0x00000 ∷ drive 18505 0 0x0520b ∷ drive 18505 7 0x08000 ∷ drive 18505 0 0x01300 ∷ drive 18505 7 0x00000 ∷ drive 18560 0 0x05300 ∷ drive 18560 7 0x08000 ∷ drive 18560 0 0x01300 ∷ drive 18560 7 0x00000 ∷ drive 18615 0 0x05300 ∷ drive 18615 7 0x08000 ∷ drive 18615 0 0x01300 ∷ drive 18615 7 0x00000 ∷ drive 18670 0 0x05300 ∷ drive 18670 7 0x08000 ∷ drive 18670 0 0x01300 ∷ drive 18670 7 0x00000 ∷ drive 18725 0 0x05300 ∷ drive 18725 7 0x08000 ∷ drive 18725 0 0x0130a ∷ drive 18725 7 0x00000 ∷ drive 18780 0 0x0530a ∷ drive 18780 7 0x08000 ∷ drive 18780 0 0x01300 ∷ drive 18780 7 0x00000 ∷ drive 18835 0 0x05300 ∷ drive 18835 7 0x08000 ∷ drive 18835 0 0x01300 ∷ drive 18835 7 0x00000 ∷ drive 18890 0 0x05300 ∷ drive 18890 7 0x08000 ∷ drive 18890 0 0x01300 ∷ drive 18890 7 0x00000 ∷ drive 18945 0 0x05300 ∷ drive 18945 7 0x08000 ∷ drive 18945 0 0x01300 ∷ drive 18945 7 0x00000 ∷ drive 19000 0 0x05300 ∷ drive 19000 7 0x08000 ∷ drive 19000 0 0x01348 ∷ drive 19000 7 0x00000 ∷ drive 19055 0 0x05348 ∷ drive 19055 7 0x08000 ∷ drive 19055 0 0x01300 ∷ drive 19055 7 0x00000 ∷ drive 19110 0 0x05300 ∷ drive 19110 7 0x08000 ∷ drive 19110 0 0x01300 ∷ drive 19110 7 0x00000 ∷ drive 19165 0 0x05300 ∷ drive 19165 7 0x08000 ∷ drive 19165 0 0x01300 ∷ drive 19165 7 0x00000 ∷ drive 19220 0 0x05300 ∷ drive 19220 7 0x08000 ∷ drive 19220 0 0x01300 ∷ drive 19220 7 0x00000 ∷ drive 19275 0 0x05300 ∷ drive 19275 7 0x08000 ∷ drive 19275 0 0x01300 ∷ drive 19275 7 0x00000 ∷ drive 19330 0 0x05300 ∷ drive 19330 7 0x08000 ∷ drive 19330 0 0x01200 ∷ drive 19330 7 0x00000 ∷ drive 19330 0 0x01b00 ∷ drive 19730 0 0x05b00 ∷ drive 19730 7 0x08000 ∷ drive 19730 0 0x01a00 ∷ drive 19730 7 0x00000 ∷ drive 19730 0 0x03b00 ∷ drive 20130 0 0x07b00 ∷ drive 20130 7 0x08000 ∷ drive 20130 0 0x03a00 ∷ drive 20130 7 0x00000 ∷ drive 20130 0 0x00000 ∷ drive 21330 7 0x00280 ∷ drive 23730 7 0x00680 ∷ drive 24930 7 0x10781 ∷ drive 25020 7 0x10581 ∷ drive 25420 0 0x00200 ∷ drive 25510 7 0x10000 ∷ drive 25510 0 0x02a00 ∷ drive 25910 0 0x06a00 ∷ drive 25910 7 0x001c0 ∷ drive 26000 7 0x081c0 ∷ drive 26000 0 0x02a00 ∷ drive 26000 7 0x00000 ∷ drive 26000 0 0x00a00 ∷ drive 26400 0 0x04a00 ∷ drive 26400 7 0x00008 ∷ drive 26455 7 0x08008 ∷ drive 26455 0 0x00a00 ∷ drive 26455 7 0x00000 ∷ drive 26455 0 0x04a00 ∷ drive 26455 7 0x00001 ∷ drive 26510 7 0x08001 ∷ drive 26510 0 0x00a00 ∷ drive 26510 7 0x00000 ∷ drive 26510 0 0x04a00 ∷ drive 26510 7 0x00100 ∷ drive 26565 7 0x08100 ∷ drive 26565 0 0x00a00 ∷ drive 26565 7 0x00000 ∷ drive 26565 0 0x04a00 ∷ drive 26565 7 0x00100 ∷ drive 26620 7 0x08100 ∷ drive 26620 0 0x00a00 ∷ drive 26620 7 0x00000 ∷ drive 26620 0 0x04a00 ∷ drive 26620 7 0x00103 ∷ drive 26675 7 0x08103 ∷ drive 26675 0 0x00a00 ∷ drive 26675 7 0x00000 ∷ drive 26675 0 0x04a00 ∷ drive 26675 7 0x00100 ∷ drive 26730 7 0x08100 ∷ drive 26730 0 0x00a00 ∷ drive 26730 7 0x00000 ∷ drive 26730 0 0x01200 ∷ drive 27530 0 0x01341 ∷ drive 27585 0 0x05341 ∷ drive 27585 7 0x08000 ∷ drive 27585 0 0x01341 ∷ drive 27585 7 0x00000 ∷ drive 27640 0 0x05341 ∷ drive 27640 7 0x08000 ∷ drive 27640 0 0x01341 ∷ drive 27640 7 0x00000 ∷ drive 27695 0 0x05341 ∷ drive 27695 7 0x08000 ∷ drive 27695 0 0x01341 ∷ drive 27695 7 0x00000 ∷ drive 27750 0 0x05341 ∷ drive 27750 7 0x08000 ∷ drive 27750 0 0x01341 ∷ drive 27750 7 0x00000 ∷ drive 27805 0 0x05341 ∷ drive 27805 7 0x08000 ∷ drive 27805 0 0x01341 ∷ drive 27805 7 0x00000 ∷ drive 27860 0 0x05341 ∷ drive 27860 7 0x08000 ∷ drive 27860 0 0x01341 ∷ drive 27860 7 0x00000 ∷ drive 27915 0 0x05341 ∷ drive 27915 7 0x08000 ∷ drive 27915 0 0x01341 ∷ drive 27915 7 0x00000 ∷ drive 27970 0 0x05341 ∷ drive 27970 7 0x08000 ∷ drive 27970 0 0x01341 ∷ drive 27970 7 0x00000 ∷ drive 28025 0 0x05341 ∷ drive 28025 7 0x08000 ∷ drive 28025 0 0x01341 ∷ drive 28025 7 0x00000 ∷ drive 28080 0 0x05341 ∷ drive 28080 7 0x08000 ∷ drive 28080 0 0x01341 ∷ drive 28080 7 0x00000 ∷ drive 28135 0 0x05341 ∷ drive 28135 7 0x08000 ∷ drive 28135 0 0x01341 ∷ drive 28135 7 0x00000 ∷ drive 28190 0 0x05341 ∷ drive 28190 7 0x08000 ∷ drive 28190 0 0x01341 ∷ drive 28190 7 0x00000 ∷ drive 28245 0 0x05341 ∷ drive 28245 7 0x08000 ∷ drive 28245 0 0x01341 ∷ drive 28245 7 0x00000 ∷ drive 28300 0 0x05341 ∷ drive 28300 7 0x08000 ∷ drive 28300 0 0x01341 ∷ drive 28300 7 0x00000 ∷ drive 28355 0 0x05341 ∷ drive 28355 7 0x08000 ∷ drive 28355 0 0x01341 ∷ drive 28355 7 0x00000 ∷ drive 28410 0 0x05341 ∷ drive 28410 7 0x08000 ∷ drive 28410 0 0x01342 ∷ drive 28410 7 0x00000 ∷ drive 28465 0 0x05342 ∷ drive 28465 7 0x08000 ∷ drive 28465 0 0x01342 ∷ drive 28465 7 0x00000 ∷ drive 28520 0 0x05342 ∷ drive 28520 7 0x08000 ∷ drive 28520 0 0x01342 ∷ drive 28520 7 0x00000 ∷ drive 28575 0 0x05342 ∷ drive 28575 7 0x08000 ∷ drive 28575 0 0x01342 ∷ drive 28575 7 0x00000 ∷ drive 28630 0 0x05342 ∷ drive 28630 7 0x08000 ∷ drive 28630 0 0x01342 ∷ drive 28630 7 0x00000 ∷ drive 28685 0 0x05342 ∷ drive 28685 7 0x08000 ∷ drive 28685 0 0x01342 ∷ drive 28685 7 0x00000 ∷ drive 28740 0 0x05342 ∷ drive 28740 7 0x08000 ∷ drive 28740 0 0x01342 ∷ drive 28740 7 0x00000 ∷ drive 28795 0 0x05342 ∷ drive 28795 7 0x08000 ∷ drive 28795 0 0x01342 ∷ drive 28795 7 0x00000 ∷ drive 28850 0 0x05342 ∷ drive 28850 7 0x08000 ∷ drive 28850 0 0x01342 ∷ drive 28850 7 0x00000 ∷ drive 28905 0 0x05342 ∷ drive 28905 7 0x08000 ∷ drive 28905 0 0x01342 ∷ drive 28905 7 0x00000 ∷ drive 28960 0 0x05342 ∷ drive 28960 7 0x08000 ∷ drive 28960 0 0x01342 ∷ drive 28960 7 0x00000 ∷ drive 29015 0 0x05342 ∷ drive 29015 7 0x08000 ∷ drive 29015 0 0x01342 ∷ drive 29015 7 0x00000 ∷ drive 29070 0 0x05342 ∷ drive 29070 7 0x08000 ∷ drive 29070 0 0x01342 ∷ drive 29070 7 0x00000 ∷ drive 29125 0 0x05342 ∷ drive 29125 7 0x08000 ∷ drive 29125 0 0x01342 ∷ drive 29125 7 0x00000 ∷ drive 29180 0 0x05342 ∷ drive 29180 7 0x08000 ∷ drive 29180 0 0x01342 ∷ drive 29180 7 0x00000 ∷ drive 29235 0 0x05342 ∷ drive 29235 7 0x08000 ∷ drive 29235 0 0x01342 ∷ drive 29235 7 0x00000 ∷ drive 29290 0 0x05342 ∷ drive 29290 7 0x08000 ∷ drive 29290 0 0x01200 ∷ drive 29290 7 0x00000 ∷ drive 29290 0 0x01a02 ∷ drive 29690 0 0x05a02 ∷ drive 29690 7 0x08000 ∷ drive 29690 0 0x01a00 ∷ drive 29690 7 0x00000 ∷ drive 29690 0 0x03b00 ∷ drive 30090 0 0x07b00 ∷ drive 30090 7 0x08000 ∷ drive 30090 0 0x03a00 ∷ drive 30090 7 0x00000 ∷ drive 30090 0 0x00000 ∷ drive 31290 7 0x00280 ∷ drive 33690 7 0x00680 ∷ drive 34890 7 0x10781 ∷ drive 34980 7 0x10581 ∷ drive 35380 0 0x00200 ∷ drive 35470 7 0x10000 ∷ drive 35470 0 0x02a00 ∷ drive 35870 0 0x06a00 ∷ drive 35870 7 0x00080 ∷ drive 35960 7 0x08080 ∷ drive 35960 0 0x02a00 ∷ drive 35960 7 0x00000 ∷ drive 35960 0 0x00a00 ∷ drive 36360 0 0x04a00 ∷ drive 36360 7 0x00103 ∷ drive 36415 7 0x08103 ∷ drive 36415 0 0x00a00 ∷ drive 36415 7 0x00000 ∷ drive 36415 0 0x04a00 ∷ drive 36415 7 0x00100 ∷ drive 36470 7 0x08100 ∷ drive 36470 0 0x00a00 ∷ drive 36470 7 0x00000 ∷ drive 36470 0 0x04a00 ∷ drive 36470 7 0x00100 ∷ drive 36525 7 0x08100 ∷ drive 36525 0 0x00a00 ∷ drive 36525 7 0x00000 ∷ drive 36525 0 0x04a00 ∷ drive 36525 7 0x00100 ∷ drive 36580 7 0x08100 ∷ drive 36580 0 0x00a00 ∷ drive 36580 7 0x00000 ∷ drive 36580 0 0x04a00 ∷ drive 36580 7 0x00112 ∷ drive 36635 7 0x08112 ∷ drive 36635 0 0x00a00 ∷ drive 36635 7 0x00000 ∷ drive 36635 0 0x04a00 ∷ drive 36635 7 0x00100 ∷ drive 36690 7 0x08100 ∷ drive 36690 0 0x00a00 ∷ drive 36690 7 0x00000 ∷ drive 36690 0 0x01200 ∷ drive 37490 0 0x013f0 ∷ drive 37545 0 0x053f0 ∷ drive 37545 7 0x08000 ∷ drive 37545 0 0x01300 ∷ drive 37545 7 0x00000 ∷ drive 37600 0 0x05300 ∷ drive 37600 7 0x08000 ∷ drive 37600 0 0x01280 ∷ drive 37600 7 0x00000 ∷ drive 37655 0 0x05280 ∷ drive 37655 7 0x08000 ∷ drive 37655 0 0x01300 ∷ drive 37655 7 0x00000 ∷ drive 37710 0 0x05300 ∷ drive 37710 7 0x08000 ∷ drive 37710 0 0x01300 ∷ drive 37710 7 0x00000 ∷ drive 37765 0 0x05300 ∷ drive 37765 7 0x08000 ∷ drive 37765 0 0x01300 ∷ drive 37765 7 0x00000 ∷ drive 37820 0 0x05300 ∷ drive 37820 7 0x08000 ∷ drive 37820 0 0x01201 ∷ drive 37820 7 0x00000 ∷ drive 37875 0 0x05201 ∷ drive 37875 7 0x08000 ∷ drive 37875 0 0x0130a ∷ drive 37875 7 0x00000 ∷ drive 37930 0 0x0530a ∷ drive 37930 7 0x08000 ∷ drive 37930 0 0x01300 ∷ drive 37930 7 0x00000 ∷ drive 37985 0 0x05300 ∷ drive 37985 7 0x08000 ∷ drive 37985 0 0x01300 ∷ drive 37985 7 0x00000 ∷ drive 38040 0 0x05300 ∷ drive 38040 7 0x08000 ∷ drive 38040 0 0x01300 ∷ drive 38040 7 0x00000 ∷ drive 38095 0 0x05300 ∷ drive 38095 7 0x08000 ∷ drive 38095 0 0x01300 ∷ drive 38095 7 0x00000 ∷ drive 38150 0 0x05300 ∷ drive 38150 7 0x08000 ∷ drive 38150 0 0x01300 ∷ drive 38150 7 0x00000 ∷ drive 38205 0 0x05300 ∷ drive 38205 7 0x08000 ∷ drive 38205 0 0x01201 ∷ drive 38205 7 0x00000 ∷ drive 38260 0 0x05201 ∷ drive 38260 7 0x08000 ∷ drive 38260 0 0x01300 ∷ drive 38260 7 0x00000 ∷ drive 38315 0 0x05300 ∷ drive 38315 7 0x08000 ∷ drive 38315 0 0x01300 ∷ drive 38315 7 0x00000 ∷ drive 38370 0 0x05300 ∷ drive 38370 7 0x08000 ∷ drive 38370 0 0x01300 ∷ drive 38370 7 0x00000 ∷ drive 38425 0 0x05300 ∷ drive 38425 7 0x08000 ∷ drive 38425 0 0x01300 ∷ drive 38425 7 0x00000 ∷ drive 38480 0 0x05300 ∷ drive 38480 7 0x08000 ∷ drive 38480 0 0x01200 ∷ drive 38480 7 0x00000 ∷ drive 38480 0 0x01b00 ∷ drive 38880 0 0x05b00 ∷ drive 38880 7 0x08000 ∷ drive 38880 0 0x01a00 ∷ drive 38880 7 0x00000 ∷ drive 38880 0 0x03b00 ∷ drive 39280 0 0x07b00 ∷ drive 39280 7 0x08000 ∷ drive 39280 0 0x03a00 ∷ drive 39280 7 0x00000 ∷ drive 39280 0 0x00000 ∷ []

abbrev read_given_up_due_events : List Event
read_given_up_due_events = events.Accept (command 1) ∷ events.Fail (command 1) 72 ∷ events.End (command 1) 2 ∷ events.Accept (sense 1) ∷ events.Run (sense 1) ∷ events.End (sense 1) 0 ∷ events.Accept (command 2) ∷ events.Run (command 2) ∷ events.End (command 2) 2 ∷ events.Accept (sense 2) ∷ events.Run (sense 2) ∷ events.End (sense 2) 0 ∷ []

abbrev pub read_given_up_due_shown : Shows
read_given_up_due_shown = record { rows = reverse read_given_up_due_rows; history = reverse read_given_up_due_events; ended = true }

-- ---- reset_in_data_due

abbrev pub reset_in_data_due : ScenarioValue
reset_in_data_due = record {
  version = 3;
  hosts = record { dev = 7; latency = 0; most = 1; retries = 2; period = 0; offset = 0; lag = 0; offers = true } ∷ [];
  targets = record { dev = 0; latency = 0; retries = 2; disc = policies.Never; pick = picks.First; seek = 0; period = 0; offset = 0; begins = false } ∷ [];
  units = [];
  fills = [];
  tapes = record { target = 0; unit = 0; objects = 12; size = 16; depth = 1 } ∷ [];
  loads = record { target = 0; unit = 0; what = loads.Block (65 ∷ 65 ∷ 65 ∷ 65 ∷ 65 ∷ 65 ∷ 65 ∷ 65 ∷ 65 ∷ 65 ∷ 65 ∷ 65 ∷ 65 ∷ 65 ∷ 65 ∷ 65 ∷ []) } ∷ record { target = 0; unit = 0; what = loads.Block (66 ∷ 66 ∷ 66 ∷ 66 ∷ 66 ∷ 66 ∷ 66 ∷ 66 ∷ 66 ∷ 66 ∷ 66 ∷ 66 ∷ 66 ∷ 66 ∷ 66 ∷ 66 ∷ []) } ∷ record { target = 0; unit = 0; what = loads.Mark } ∷ record { target = 0; unit = 0; what = loads.Block (67 ∷ 67 ∷ 67 ∷ 67 ∷ 67 ∷ 67 ∷ 67 ∷ 67 ∷ 67 ∷ 67 ∷ 67 ∷ 67 ∷ 67 ∷ 67 ∷ 67 ∷ 67 ∷ []) } ∷ record { target = 0; unit = 0; what = loads.Mark } ∷ record { target = 0; unit = 0; what = loads.Mark } ∷ record { target = 0; unit = 0; what = loads.Block (68 ∷ 68 ∷ 68 ∷ 68 ∷ 68 ∷ 68 ∷ 68 ∷ 68 ∷ 68 ∷ 68 ∷ 68 ∷ 68 ∷ 68 ∷ 68 ∷ 68 ∷ 68 ∷ []) } ∷ [];
  commands = record { host = 7; target = 0; unit = 0; at = 0; tag = tags.Untagged; cdb = (8 ∷ 1 ∷ 0 ∷ 0 ∷ 2 ∷ 0 ∷ []); payload = payloads.Nothing } ∷ record { host = 7; target = 0; unit = 0; at = 100000; tag = tags.Untagged; cdb = (8 ∷ 1 ∷ 0 ∷ 0 ∷ 1 ∷ 0 ∷ []); payload = payloads.Nothing } ∷ record { host = 7; target = 0; unit = 0; at = 100000; tag = tags.Untagged; cdb = (8 ∷ 1 ∷ 0 ∷ 0 ∷ 1 ∷ 0 ∷ []); payload = payloads.Nothing } ∷ [];
  aborts = [];
  resets = record { dev = 7; at = 7500 } ∷ [];
  faults = [];
}

abbrev pub reset_in_data_due_rows : List Row
reset_in_data_due_rows = drive 1200 7 0x00280 ∷ drive 3600 7 0x00680 ∷ drive 4800 7 0x10781 ∷ drive 4890 7 0x10581 ∷ drive 5290 0 0x00200 ∷ drive 5380 7 0x10000 ∷ drive 5380 0 0x02a00 ∷ drive 5780 0 0x06a00 ∷ drive 5780 7 0x001c0 ∷ drive 5870 7 0x081c0 ∷ drive 5870 0 0x02a00 ∷ drive 5870 7 0x00000 ∷ drive 5870 0 0x00a00 ∷ drive 6270 0 0x04a00 ∷ drive 6270 7 0x00008 ∷ drive 6325 7 0x08008 ∷ drive 6325 0 0x00a00 ∷ drive 6325 7 0x00000 ∷ drive 6325 0 0x04a00 ∷ drive 6325 7 0x00001 ∷ drive 6380 7 0x08001 ∷ drive 6380 0 0x00a00 ∷ drive 6380 7 0x00000 ∷ drive 6380 0 0x04a00 ∷ drive 6380 7 0x00100 ∷ drive 6435 7 0x08100 ∷ drive 6435 0 0x00a00 ∷ drive 6435 7 0x00000 ∷ drive 6435 0 0x04a00 ∷ drive 6435 7 0x00100 ∷ drive 6490 7 0x08100 ∷ drive 6490 0 0x00a00 ∷ drive 6490 7 0x00000 ∷ drive 6490 0 0x04a00 ∷ drive 6490 7 0x00002 ∷ drive 6545 7 0x08002 ∷ drive 6545 0 0x00a00 ∷ drive 6545 7 0x00000 ∷ drive 6545 0 0x04a00 ∷ drive 6545 7 0x00100 ∷ drive 6600 7 0x08100 ∷ drive 6600 0 0x00a00 ∷ drive 6600 7 0x00000 ∷ drive 6600 0 0x01200 ∷ drive 7400 0 0x01341 ∷ drive 7455 0 0x05341 ∷ drive 7455 7 0x08000 ∷ drive 7455 0 0x01341 ∷ drive 7455 7 0x00000 ∷ drive 7500 7 0x20000 ∷ drive 7500 0 0x00000 ∷ drive 32500 7 0x00000 ∷ drive 100000 7 0x00280 ∷ drive 102400 7 0x00680 ∷ drive 103600 7 0x10781 ∷ drive 103690 7 0x10581 ∷ drive 104090 0 0x00200 ∷ drive 104180 7 0x10000 ∷ drive 104180 0 0x02a00 ∷ drive 104580 0 0x06a00 ∷ drive 104580 7 0x001c0 ∷ drive 104670 7 0x081c0 ∷ drive 104670 0 0x02a00 ∷ drive 104670 7 0x00000 ∷ drive 104670 0 0x00a00 ∷ drive 105070 0 0x04a00 ∷ drive 105070 7 0x00008 ∷ drive 105125 7 0x08008 ∷ drive 105125 0 0x00a00 ∷ drive 105125 7 0x00000 ∷ drive 105125 0 0x04a00 ∷ drive 105125 7 0x00001 ∷ drive 105180 7 0x08001 ∷ drive 105180 0 0x00a00 ∷ drive 105180 7 0x00000 ∷ drive 105180 0 0x04a00 ∷ drive 105180 7 0x00100 ∷ drive 105235 7 0x08100 ∷ drive 105235 0 0x00a00 ∷ drive 105235 7 0x00000 ∷ drive 105235 0 0x04a00 ∷ drive 105235 7 0x00100 ∷ drive 105290 7 0x08100 ∷ drive 105290 0 0x00a00 ∷ drive 105290 7 0x00000 ∷ drive 105290 0 0x04a00 ∷ drive 105290 7 0x00001 ∷ drive 105345 7 0x08001 ∷ drive 105345 0 0x00a00 ∷ drive 105345 7 0x00000 ∷ drive 105345 0 0x04a00 ∷ drive 105345 7 0x00100 ∷ drive 105400 7 0x08100 ∷ drive 105400 0 0x00a00 ∷ drive 105400 7 0x00000 ∷ drive 105400 0 0x01a00 ∷ drive 106200 0 0x01a02 ∷ drive 106255 0 0x05a02 ∷ drive 106255 7 0x08000 ∷ drive 106255 0 0x01a00 ∷ drive 106255 7 0x00000 ∷ drive 106255 0 0x03b00 ∷ drive 106655 0 0x07b00 ∷ drive 106655 7 0x08000 ∷ drive 106655 0 0x03a00 ∷ drive 106655 7 0x00000 ∷ drive 106655 0 0x00000 ∷ drive 107855 7 0x00280 ∷ drive 110255 7 0x00680 ∷ drive 111455 7 0x10781 ∷ drive 111545 7 0x10581 ∷ drive 111945 0 0x00200 ∷ drive 112035 7 0x10000 ∷ drive 112035 0 0x02a00 ∷ drive 112435 0 0x06a00 ∷ drive 112435 7 0x00080 ∷ drive 112525 7 0x08080 ∷ drive 112525 0 0x02a00 ∷ drive 112525 7 0x00000 ∷ drive 112525 0 0x00a00 ∷ drive 112925 0 0x04a00 ∷ drive 112925 7 0x00103 ∷ drive 112980 7 0x08103 ∷ drive 112980 0 0x00a00 ∷ drive 112980 7 0x00000 ∷ drive 112980 0 0x04a00 ∷ drive 112980 7 0x00100 ∷ drive 113035 7 0x08100 ∷ drive 113035 0 0x00a00 ∷ drive 113035 7 0x00000 ∷ drive 113035 0 0x04a00 ∷ drive 113035 7 0x00100 ∷ drive 113090 7 0x08100 ∷ drive 113090 0 0x00a00 ∷ drive 113090 7 0x00000 ∷ drive 113090 0 0x04a00 ∷ drive 113090 7 0x00100 ∷ drive 113145 7 0x08100 ∷ drive 113145 0 0x00a00 ∷ drive 113145 7 0x00000 ∷ drive 113145 0 0x04a00 ∷ drive 113145 7 0x00112 ∷ drive 113200 7 0x08112 ∷ drive 113200 0 0x00a00 ∷ drive 113200 7 0x00000 ∷ drive 113200 0 0x04a00 ∷ drive 113200 7 0x00100 ∷ drive 113255 7 0x08100 ∷ drive 113255 0 0x00a00 ∷ drive 113255 7 0x00000 ∷ drive 113255 0 0x01200 ∷ drive 114055 0 0x01270 ∷ drive 114110 0 0x05270 ∷ drive 114110 7 0x08000 ∷ drive 114110 0 0x01300 ∷ drive 114110 7 0x00000 ∷ drive 114165 0 0x05300 ∷ drive 114165 7 0x08000 ∷ drive 114165 0 0x01306 ∷ drive 114165 7 0x00000 ∷ drive 114220 0 0x05306 ∷ drive 114220 7 0x08000 ∷ drive 114220 0 0x01300 ∷ drive 114220 7 0x00000 ∷ drive 114275 0 0x05300 ∷ drive 114275 7 0x08000 ∷ drive 114275 0 0x01300 ∷ drive 114275 7 0x00000 ∷ drive 114330 0 0x05300 ∷ drive 114330 7 0x08000 ∷ drive 114330 0 0x01300 ∷ drive 114330 7 0x00000 ∷ drive 114385 0 0x05300 ∷ drive 114385 7 0x08000 ∷ drive 114385 0 0x01300 ∷ drive 114385 7 0x00000 ∷ drive 114440 0 0x05300 ∷ drive 114440 7 0x08000 ∷ drive 114440 0 0x0130a ∷ drive 114440 7 0x00000 ∷ drive 114495 0 0x0530a ∷ drive 114495 7 0x08000 ∷ drive 114495 0 0x01300 ∷ drive 114495 7 0x00000 ∷ drive 114550 0 0x05300 ∷ drive 114550 7 0x08000 ∷ drive 114550 0 0x01300 ∷ drive 114550 7 0x00000 ∷ drive 114605 0 0x05300 ∷ drive 114605 7 0x08000 ∷ drive 114605 0 0x01300 ∷ drive 114605 7 0x00000 ∷ drive 114660 0 0x05300 ∷ drive 114660 7 0x08000 ∷ drive 114660 0 0x01300 ∷ drive 114660 7 0x00000 ∷ drive 114715 0 0x05300 ∷ drive 114715 7 0x08000 ∷ drive 114715 0 0x01229 ∷ drive 114715 7 0x00000 ∷ drive 114770 0 0x05229 ∷ drive 114770 7 0x08000 ∷ drive 114770 0 0x01300 ∷ drive 114770 7 0x00000 ∷ drive 114825 0 0x05300 ∷ drive 114825 7 0x08000 ∷ drive 114825 0 0x01300 ∷ drive 114825 7 0x00000 ∷ drive 114880 0 0x05300 ∷ drive 114880 7 0x08000 ∷ drive 114880 0 0x01300 ∷ drive 114880 7 0x00000 ∷ drive 114935 0 0x05300 ∷ drive 114935 7 0x08000 ∷ drive 114935 0 0x01300 ∷ drive 114935 7 0x00000 ∷ drive 114990 0 0x05300 ∷ drive 114990 7 0x08000 ∷ drive 114990 0 0x01300 ∷ drive 114990 7 0x00000 ∷ drive 115045 0 0x05300 ∷ drive 115045 7 0x08000 ∷ drive 115045 0 0x01200 ∷ drive 115045 7 0x00000 ∷ drive 115045 0 0x01b00 ∷ drive 115445 0 0x05b00 ∷ drive 115445 7 0x08000 ∷ drive 115445 0 0x01a00 ∷ drive 115445 7 0x00000 ∷ drive 115445 0 0x03b00 ∷ drive 115845 0 0x07b00 ∷ drive 115845 7 0x08000 ∷ drive 115845 0 0x03a00 ∷ drive 115845 7 0x00000 ∷ drive 115845 0 0x00000 ∷ drive 117045 7 0x00280 ∷ drive 119445 7 0x00680 ∷ drive 120645 7 0x10781 ∷ drive 120735 7 0x10581 ∷ drive 121135 0 0x00200 ∷ drive 121225 7 0x10000 ∷ drive 121225 0 0x02a00 ∷ drive 121625 0 0x06a00 ∷ drive 121625 7 0x001c0 ∷ drive 121715 7 0x081c0 ∷ drive 121715 0 0x02a00 ∷ drive 121715 7 0x00000 ∷ drive 121715 0 0x00a00 ∷ drive 122115 0 0x04a00 ∷ drive 122115 7 0x00008 ∷ drive 122170 7 0x08008 ∷ drive 122170 0 0x00a00 ∷ drive 122170 7 0x00000 ∷ drive 122170 0 0x04a00 ∷ drive 122170 7 0x00001 ∷ drive 122225 7 0x08001 ∷ drive 122225 0 0x00a00 ∷ drive 122225 7 0x00000 ∷ drive 122225 0 0x04a00 ∷ drive 122225 7 0x00100 ∷ drive 122280 7 0x08100 ∷ drive 122280 0 0x00a00 ∷ drive 122280 7 0x00000 ∷ drive 122280 0 0x04a00 ∷ drive 122280 7 0x00100 ∷ drive 122335 7 0x08100 ∷ drive 122335 0 0x00a00 ∷ drive 122335 7 0x00000 ∷ drive 122335 0 0x04a00 ∷ drive 122335 7 0x00001 ∷ drive 122390 7 0x08001 ∷ drive 122390 0 0x00a00 ∷ drive 122390 7 0x00000 ∷ drive 122390 0 0x04a00 ∷ drive 122390 7 0x00100 ∷ drive 122445 7 0x08100 ∷ drive 122445 0 0x00a00 ∷ drive 122445 7 0x00000 ∷ drive 122445 0 0x01200 ∷ drive 123245 0 0x01341 ∷ drive 123300 0 0x05341 ∷ drive 123300 7 0x08000 ∷ drive 123300 0 0x01341 ∷ drive 123300 7 0x00000 ∷ drive 123355 0 0x05341 ∷ drive 123355 7 0x08000 ∷ drive 123355 0 0x01341 ∷ drive 123355 7 0x00000 ∷ drive 123410 0 0x05341 ∷ drive 123410 7 0x08000 ∷ drive 123410 0 0x01341 ∷ drive 123410 7 0x00000 ∷ drive 123465 0 0x05341 ∷ drive 123465 7 0x08000 ∷ drive 123465 0 0x01341 ∷ drive 123465 7 0x00000 ∷ drive 123520 0 0x05341 ∷ drive 123520 7 0x08000 ∷ drive 123520 0 0x01341 ∷ drive 123520 7 0x00000 ∷ drive 123575 0 0x05341 ∷ drive 123575 7 0x08000 ∷ drive 123575 0 0x01341 ∷ drive 123575 7 0x00000 ∷ drive 123630 0 0x05341 ∷ drive 123630 7 0x08000 ∷ drive 123630 0 0x01341 ∷ drive 123630 7 0x00000 ∷ drive 123685 0 0x05341 ∷ drive 123685 7 0x08000 ∷ drive 123685 0 0x01341 ∷ drive 123685 7 0x00000 ∷ drive 123740 0 0x05341 ∷ drive 123740 7 0x08000 ∷ drive 123740 0 0x01341 ∷ drive 123740 7 0x00000 ∷ drive 123795 0 0x05341 ∷ drive 123795 7 0x08000 ∷ drive 123795 0 0x01341 ∷ drive 123795 7 0x00000 ∷ drive 123850 0 0x05341 ∷ drive 123850 7 0x08000 ∷ drive 123850 0 0x01341 ∷ drive 123850 7 0x00000 ∷ drive 123905 0 0x05341 ∷ drive 123905 7 0x08000 ∷ drive 123905 0 0x01341 ∷ drive 123905 7 0x00000 ∷ drive 123960 0 0x05341 ∷ drive 123960 7 0x08000 ∷ drive 123960 0 0x01341 ∷ drive 123960 7 0x00000 ∷ drive 124015 0 0x05341 ∷ drive 124015 7 0x08000 ∷ drive 124015 0 0x01341 ∷ drive 124015 7 0x00000 ∷ drive 124070 0 0x05341 ∷ drive 124070 7 0x08000 ∷ drive 124070 0 0x01341 ∷ drive 124070 7 0x00000 ∷ drive 124125 0 0x05341 ∷ drive 124125 7 0x08000 ∷ drive 124125 0 0x01200 ∷ drive 124125 7 0x00000 ∷ drive 124125 0 0x01b00 ∷ drive 124525 0 0x05b00 ∷ drive 124525 7 0x08000 ∷ drive 124525 0 0x01a00 ∷ drive 124525 7 0x00000 ∷ drive 124525 0 0x03b00 ∷ drive 124925 0 0x07b00 ∷ drive 124925 7 0x08000 ∷ drive 124925 0 0x03a00 ∷ drive 124925 7 0x00000 ∷ drive 124925 0 0x00000 ∷ []

abbrev reset_in_data_due_events : List Event
reset_in_data_due_events = events.Accept (command 1) ∷ events.Reset 7 ∷ events.Accept (command 2) ∷ events.Run (command 2) ∷ events.End (command 2) 2 ∷ events.Accept (sense 2) ∷ events.Run (sense 2) ∷ events.End (sense 2) 0 ∷ events.Accept (command 3) ∷ events.Run (command 3) ∷ events.End (command 3) 0 ∷ []

abbrev pub reset_in_data_due_shown : Shows
reset_in_data_due_shown = record { rows = reverse reset_in_data_due_rows; history = reverse reset_in_data_due_events; ended = true }

-- ---- tag_aborted_due

abbrev pub tag_aborted_due : ScenarioValue
tag_aborted_due = record {
  version = 3;
  hosts = record { dev = 7; latency = 0; most = 3; retries = 2; period = 0; offset = 0; lag = 0; offers = true } ∷ [];
  targets = record { dev = 0; latency = 0; retries = 2; disc = policies.Command; pick = picks.First; seek = 30000; period = 0; offset = 0; begins = false } ∷ [];
  units = [];
  fills = [];
  tapes = record { target = 0; unit = 0; objects = 12; size = 16; depth = 8 } ∷ [];
  loads = record { target = 0; unit = 0; what = loads.Block (65 ∷ 65 ∷ 65 ∷ 65 ∷ 65 ∷ 65 ∷ 65 ∷ 65 ∷ 65 ∷ 65 ∷ 65 ∷ 65 ∷ 65 ∷ 65 ∷ 65 ∷ 65 ∷ []) } ∷ record { target = 0; unit = 0; what = loads.Block (66 ∷ 66 ∷ 66 ∷ 66 ∷ 66 ∷ 66 ∷ 66 ∷ 66 ∷ 66 ∷ 66 ∷ 66 ∷ 66 ∷ 66 ∷ 66 ∷ 66 ∷ 66 ∷ []) } ∷ record { target = 0; unit = 0; what = loads.Mark } ∷ record { target = 0; unit = 0; what = loads.Block (67 ∷ 67 ∷ 67 ∷ 67 ∷ 67 ∷ 67 ∷ 67 ∷ 67 ∷ 67 ∷ 67 ∷ 67 ∷ 67 ∷ 67 ∷ 67 ∷ 67 ∷ 67 ∷ []) } ∷ record { target = 0; unit = 0; what = loads.Mark } ∷ record { target = 0; unit = 0; what = loads.Mark } ∷ record { target = 0; unit = 0; what = loads.Block (68 ∷ 68 ∷ 68 ∷ 68 ∷ 68 ∷ 68 ∷ 68 ∷ 68 ∷ 68 ∷ 68 ∷ 68 ∷ 68 ∷ 68 ∷ 68 ∷ 68 ∷ 68 ∷ []) } ∷ [];
  commands = record { host = 7; target = 0; unit = 0; at = 0; tag = tags.Simple 1; cdb = (8 ∷ 1 ∷ 0 ∷ 0 ∷ 1 ∷ 0 ∷ []); payload = payloads.Nothing } ∷ record { host = 7; target = 0; unit = 0; at = 0; tag = tags.Simple 2; cdb = (8 ∷ 1 ∷ 0 ∷ 0 ∷ 1 ∷ 0 ∷ []); payload = payloads.Nothing } ∷ record { host = 7; target = 0; unit = 0; at = 0; tag = tags.Simple 3; cdb = (8 ∷ 1 ∷ 0 ∷ 0 ∷ 1 ∷ 0 ∷ []); payload = payloads.Nothing } ∷ [];
  aborts = record { host = 7; target = 0; unit = 0; at = 20000; what = (aborts.Tag 1) } ∷ [];
  resets = [];
  faults = [];
}

abbrev pub tag_aborted_due_rows : List Row
tag_aborted_due_rows = drive 1200 7 0x00280 ∷ drive 3600 7 0x00680 ∷ drive 4800 7 0x10781 ∷ drive 4890 7 0x10581 ∷ drive 5290 0 0x00200 ∷ drive 5380 7 0x10000 ∷ drive 5380 0 0x02a00 ∷ drive 5780 0 0x06a00 ∷ drive 5780 7 0x101c0 ∷ drive 5835 7 0x181c0 ∷ drive 5835 0 0x02a00 ∷ drive 5835 7 0x10000 ∷ drive 5835 0 0x06a00 ∷ drive 5835 7 0x10020 ∷ drive 5890 7 0x18020 ∷ drive 5890 0 0x02a00 ∷ drive 5890 7 0x10000 ∷ drive 5890 0 0x06a00 ∷ drive 5890 7 0x00001 ∷ drive 5980 7 0x08001 ∷ drive 5980 0 0x02a00 ∷ drive 5980 7 0x00000 ∷ drive 5980 0 0x00a00 ∷ drive 6380 0 0x04a00 ∷ drive 6380 7 0x00008 ∷ drive 6435 7 0x08008 ∷ drive 6435 0 0x00a00 ∷ drive 6435 7 0x00000 ∷ drive 6435 0 0x04a00 ∷ drive 6435 7 0x00001 ∷ drive 6490 7 0x08001 ∷ drive 6490 0 0x00a00 ∷ drive 6490 7 0x00000 ∷ drive 6490 0 0x04a00 ∷ drive 6490 7 0x00100 ∷ drive 6545 7 0x08100 ∷ drive 6545 0 0x00a00 ∷ drive 6545 7 0x00000 ∷ drive 6545 0 0x04a00 ∷ drive 6545 7 0x00100 ∷ drive 6600 7 0x08100 ∷ drive 6600 0 0x00a00 ∷ drive 6600 7 0x00000 ∷ drive 6600 0 0x04a00 ∷ drive 6600 7 0x00001 ∷ drive 6655 7 0x08001 ∷ drive 6655 0 0x00a00 ∷ drive 6655 7 0x00000 ∷ drive 6655 0 0x04a00 ∷ drive 6655 7 0x00100 ∷ drive 6710 7 0x08100 ∷ drive 6710 0 0x00a00 ∷ drive 6710 7 0x00000 ∷ drive 6710 0 0x03a00 ∷ drive 7510 0 0x03a04 ∷ drive 7565 0 0x07a04 ∷ drive 7565 7 0x08000 ∷ drive 7565 0 0x03a00 ∷ drive 7565 7 0x00000 ∷ drive 7565 0 0x00000 ∷ drive 8765 7 0x00280 ∷ drive 11165 7 0x00680 ∷ drive 12365 7 0x10781 ∷ drive 12455 7 0x10581 ∷ drive 12855 0 0x00200 ∷ drive 12945 7 0x10000 ∷ drive 12945 0 0x02a00 ∷ drive 13345 0 0x06a00 ∷ drive 13345 7 0x101c0 ∷ drive 13400 7 0x181c0 ∷ drive 13400 0 0x02a00 ∷ drive 13400 7 0x10000 ∷ drive 13400 0 0x06a00 ∷ drive 13400 7 0x10020 ∷ drive 13455 7 0x18020 ∷ drive 13455 0 0x02a00 ∷ drive 13455 7 0x10000 ∷ drive 13455 0 0x06a00 ∷ drive 13455 7 0x00002 ∷ drive 13545 7 0x08002 ∷ drive 13545 0 0x02a00 ∷ drive 13545 7 0x00000 ∷ drive 13545 0 0x00a00 ∷ drive 13945 0 0x04a00 ∷ drive 13945 7 0x00008 ∷ drive 14000 7 0x08008 ∷ drive 14000 0 0x00a00 ∷ drive 14000 7 0x00000 ∷ drive 14000 0 0x04a00 ∷ drive 14000 7 0x00001 ∷ drive 14055 7 0x08001 ∷ drive 14055 0 0x00a00 ∷ drive 14055 7 0x00000 ∷ drive 14055 0 0x04a00 ∷ drive 14055 7 0x00100 ∷ drive 14110 7 0x08100 ∷ drive 14110 0 0x00a00 ∷ drive 14110 7 0x00000 ∷ drive 14110 0 0x04a00 ∷ drive 14110 7 0x00100 ∷ drive 14165 7 0x08100 ∷ drive 14165 0 0x00a00 ∷ drive 14165 7 0x00000 ∷ drive 14165 0 0x04a00 ∷ drive 14165 7 0x00001 ∷ drive 14220 7 0x08001 ∷ drive 14220 0 0x00a00 ∷ drive 14220 7 0x00000 ∷ drive 14220 0 0x04a00 ∷ drive 14220 7 0x00100 ∷ drive 14275 7 0x08100 ∷ drive 14275 0 0x00a00 ∷ drive 14275 7 0x00000 ∷ drive 14275 0 0x03a00 ∷ drive 15075 0 0x03a04 ∷ drive 15130 0 0x07a04 ∷ drive 15130 7 0x08000 ∷ drive 15130 0 0x03a00 ∷ drive 15130 7 0x00000 ∷ drive 15130 0 0x00000 ∷ drive 16330 7 0x00280 ∷ drive 18730 7 0x00680 ∷ drive 19930 7 0x10781 ∷ drive 20020 7 0x10581 ∷ drive 20420 0 0x00200 ∷ drive 20510 7 0x10000 ∷ drive 20510 0 0x02a00 ∷ drive 20910 0 0x06a00 ∷ drive 20910 7 0x101c0 ∷ drive 20965 7 0x181c0 ∷ drive 20965 0 0x02a00 ∷ drive 20965 7 0x10000 ∷ drive 20965 0 0x06a00 ∷ drive 20965 7 0x10020 ∷ drive 21020 7 0x18020 ∷ drive 21020 0 0x02a00 ∷ drive 21020 7 0x10000 ∷ drive 21020 0 0x06a00 ∷ drive 21020 7 0x00103 ∷ drive 21110 7 0x08103 ∷ drive 21110 0 0x02a00 ∷ drive 21110 7 0x00000 ∷ drive 21110 0 0x00a00 ∷ drive 21510 0 0x04a00 ∷ drive 21510 7 0x00008 ∷ drive 21565 7 0x08008 ∷ drive 21565 0 0x00a00 ∷ drive 21565 7 0x00000 ∷ drive 21565 0 0x04a00 ∷ drive 21565 7 0x00001 ∷ drive 21620 7 0x08001 ∷ drive 21620 0 0x00a00 ∷ drive 21620 7 0x00000 ∷ drive 21620 0 0x04a00 ∷ drive 21620 7 0x00100 ∷ drive 21675 7 0x08100 ∷ drive 21675 0 0x00a00 ∷ drive 21675 7 0x00000 ∷ drive 21675 0 0x04a00 ∷ drive 21675 7 0x00100 ∷ drive 21730 7 0x08100 ∷ drive 21730 0 0x00a00 ∷ drive 21730 7 0x00000 ∷ drive 21730 0 0x04a00 ∷ drive 21730 7 0x00001 ∷ drive 21785 7 0x08001 ∷ drive 21785 0 0x00a00 ∷ drive 21785 7 0x00000 ∷ drive 21785 0 0x04a00 ∷ drive 21785 7 0x00100 ∷ drive 21840 7 0x08100 ∷ drive 21840 0 0x00a00 ∷ drive 21840 7 0x00000 ∷ drive 21840 0 0x03a00 ∷ drive 22640 0 0x03a04 ∷ drive 22695 0 0x07a04 ∷ drive 22695 7 0x08000 ∷ drive 22695 0 0x03a00 ∷ drive 22695 7 0x00000 ∷ drive 22695 0 0x00000 ∷ drive 23895 7 0x00280 ∷ drive 26295 7 0x00680 ∷ drive 27495 7 0x10781 ∷ drive 27585 7 0x10581 ∷ drive 27985 0 0x00200 ∷ drive 28075 7 0x10000 ∷ drive 28075 0 0x02a00 ∷ drive 28475 0 0x06a00 ∷ drive 28475 7 0x10080 ∷ drive 28530 7 0x18080 ∷ drive 28530 0 0x02a00 ∷ drive 28530 7 0x10000 ∷ drive 28530 0 0x06a00 ∷ drive 28530 7 0x10020 ∷ drive 28585 7 0x18020 ∷ drive 28585 0 0x02a00 ∷ drive 28585 7 0x10000 ∷ drive 28585 0 0x06a00 ∷ drive 28585 7 0x10001 ∷ drive 28640 7 0x18001 ∷ drive 28640 0 0x02a00 ∷ drive 28640 7 0x10000 ∷ drive 28640 0 0x06a00 ∷ drive 28640 7 0x0000d ∷ drive 28730 7 0x0800d ∷ drive 28730 0 0x02a00 ∷ drive 28730 7 0x00000 ∷ drive 28730 0 0x00000 ∷ drive 58730 0 0x00201 ∷ drive 61130 0 0x00601 ∷ drive 62330 0 0x01781 ∷ drive 62420 0 0x01581 ∷ drive 62820 7 0x00200 ∷ drive 62820 0 0x01781 ∷ drive 62910 0 0x03a80 ∷ drive 62910 7 0x00000 ∷ drive 63310 0 0x07a80 ∷ drive 63310 7 0x08000 ∷ drive 63310 0 0x03a20 ∷ drive 63310 7 0x00000 ∷ drive 63365 0 0x07a20 ∷ drive 63365 7 0x08000 ∷ drive 63365 0 0x03a02 ∷ drive 63365 7 0x00000 ∷ drive 63420 0 0x07a02 ∷ drive 63420 7 0x08000 ∷ drive 63420 0 0x03a00 ∷ drive 63420 7 0x00000 ∷ drive 63420 0 0x01341 ∷ drive 63820 0 0x05341 ∷ drive 63820 7 0x08000 ∷ drive 63820 0 0x01341 ∷ drive 63820 7 0x00000 ∷ drive 63875 0 0x05341 ∷ drive 63875 7 0x08000 ∷ drive 63875 0 0x01341 ∷ drive 63875 7 0x00000 ∷ drive 63930 0 0x05341 ∷ drive 63930 7 0x08000 ∷ drive 63930 0 0x01341 ∷ drive 63930 7 0x00000 ∷ drive 63985 0 0x05341 ∷ drive 63985 7 0x08000 ∷ drive 63985 0 0x01341 ∷ drive 63985 7 0x00000 ∷ drive 64040 0 0x05341 ∷ drive 64040 7 0x08000 ∷ drive 64040 0 0x01341 ∷ drive 64040 7 0x00000 ∷ drive 64095 0 0x05341 ∷ drive 64095 7 0x08000 ∷ drive 64095 0 0x01341 ∷ drive 64095 7 0x00000 ∷ drive 64150 0 0x05341 ∷ drive 64150 7 0x08000 ∷ drive 64150 0 0x01341 ∷ drive 64150 7 0x00000 ∷ drive 64205 0 0x05341 ∷ drive 64205 7 0x08000 ∷ drive 64205 0 0x01341 ∷ drive 64205 7 0x00000 ∷ drive 64260 0 0x05341 ∷ drive 64260 7 0x08000 ∷ drive 64260 0 0x01341 ∷ drive 64260 7 0x00000 ∷ drive 64315 0 0x05341 ∷ drive 64315 7 0x08000 ∷ drive 64315 0 0x01341 ∷ drive 64315 7 0x00000 ∷ drive 64370 0 0x05341 ∷ drive 64370 7 0x08000 ∷ drive 64370 0 0x01341 ∷ drive 64370 7 0x00000 ∷ drive 64425 0 0x05341 ∷ drive 64425 7 0x08000 ∷ drive 64425 0 0x01341 ∷ drive 64425 7 0x00000 ∷ drive 64480 0 0x05341 ∷ drive 64480 7 0x08000 ∷ drive 64480 0 0x01341 ∷ drive 64480 7 0x00000 ∷ drive 64535 0 0x05341 ∷ drive 64535 7 0x08000 ∷ drive 64535 0 0x01341 ∷ drive 64535 7 0x00000 ∷ drive 64590 0 0x05341 ∷ drive 64590 7 0x08000 ∷ drive 64590 0 0x01341 ∷ drive 64590 7 0x00000 ∷ drive 64645 0 0x05341 ∷ drive 64645 7 0x08000 ∷ drive 64645 0 0x01200 ∷ drive 64645 7 0x00000 ∷ drive 64645 0 0x01b00 ∷ drive 65045 0 0x05b00 ∷ drive 65045 7 0x08000 ∷ drive 65045 0 0x01a00 ∷ drive 65045 7 0x00000 ∷ drive 65045 0 0x03b00 ∷ drive 65445 0 0x07b00 ∷ drive 65445 7 0x08000 ∷ drive 65445 0 0x03a00 ∷ drive 65445 7 0x00000 ∷ drive 65445 0 0x00000 ∷ drive 95445 0 0x00201 ∷ drive 97845 0 0x00601 ∷ drive 99045 0 0x01781 ∷ drive 99135 0 0x01581 ∷ drive 99535 7 0x00200 ∷ drive 99535 0 0x01781 ∷ drive 99625 0 0x03a80 ∷ drive 99625 7 0x00000 ∷ drive 100025 0 0x07a80 ∷ drive 100025 7 0x08000 ∷ drive 100025 0 0x03a20 ∷ drive 100025 7 0x00000 ∷ drive 100080 0 0x07a20 ∷ drive 100080 7 0x08000 ∷ drive 100080 0 0x03b03 ∷ drive 100080 7 0x00000 ∷ drive 100135 0 0x07b03 ∷ drive 100135 7 0x08000 ∷ drive 100135 0 0x03a00 ∷ drive 100135 7 0x00000 ∷ drive 100135 0 0x01342 ∷ drive 100535 0 0x05342 ∷ drive 100535 7 0x08000 ∷ drive 100535 0 0x01342 ∷ drive 100535 7 0x00000 ∷ drive 100590 0 0x05342 ∷ drive 100590 7 0x08000 ∷ drive 100590 0 0x01342 ∷ drive 100590 7 0x00000 ∷ drive 100645 0 0x05342 ∷ drive 100645 7 0x08000 ∷ drive 100645 0 0x01342 ∷ drive 100645 7 0x00000 ∷ drive 100700 0 0x05342 ∷ drive 100700 7 0x08000 ∷ drive 100700 0 0x01342 ∷ drive 100700 7 0x00000 ∷ drive 100755 0 0x05342 ∷ drive 100755 7 0x08000 ∷ drive 100755 0 0x01342 ∷ drive 100755 7 0x00000 ∷ drive 100810 0 0x05342 ∷ drive 100810 7 0x08000 ∷ drive 100810 0 0x01342 ∷ drive 100810 7 0x00000 ∷ drive 100865 0 0x05342 ∷ drive 100865 7 0x08000 ∷ drive 100865 0 0x01342 ∷ drive 100865 7 0x00000 ∷ drive 100920 0 0x05342 ∷ drive 100920 7 0x08000 ∷ drive 100920 0 0x01342 ∷ drive 100920 7 0x00000 ∷ drive 100975 0 0x05342 ∷ drive 100975 7 0x08000 ∷ drive 100975 0 0x01342 ∷ drive 100975 7 0x00000 ∷ drive 101030 0 0x05342 ∷ drive 101030 7 0x08000 ∷ drive 101030 0 0x01342 ∷ drive 101030 7 0x00000 ∷ drive 101085 0 0x05342 ∷ drive 101085 7 0x08000 ∷ drive 101085 0 0x01342 ∷ drive 101085 7 0x00000 ∷ drive 101140 0 0x05342 ∷ drive 101140 7 0x08000 ∷ drive 101140 0 0x01342 ∷ drive 101140 7 0x00000 ∷ drive 101195 0 0x05342 ∷ drive 101195 7 0x08000 ∷ drive 101195 0 0x01342 ∷ drive 101195 7 0x00000 ∷ drive 101250 0 0x05342 ∷ drive 101250 7 0x08000 ∷ drive 101250 0 0x01342 ∷ drive 101250 7 0x00000 ∷ drive 101305 0 0x05342 ∷ drive 101305 7 0x08000 ∷ drive 101305 0 0x01342 ∷ drive 101305 7 0x00000 ∷ drive 101360 0 0x05342 ∷ drive 101360 7 0x08000 ∷ drive 101360 0 0x01200 ∷ drive 101360 7 0x00000 ∷ drive 101360 0 0x01b00 ∷ drive 101760 0 0x05b00 ∷ drive 101760 7 0x08000 ∷ drive 101760 0 0x01a00 ∷ drive 101760 7 0x00000 ∷ drive 101760 0 0x03b00 ∷ drive 102160 0 0x07b00 ∷ drive 102160 7 0x08000 ∷ drive 102160 0 0x03a00 ∷ drive 102160 7 0x00000 ∷ drive 102160 0 0x00000 ∷ []

abbrev tag_aborted_due_events : List Event
tag_aborted_due_events = events.Accept (command 1) ∷ events.Accept (command 2) ∷ events.Accept (command 3) ∷ events.Aborted 7 0 0 (aborts.Tag 1) ∷ events.Run (command 2) ∷ events.End (command 2) 0 ∷ events.Run (command 3) ∷ events.End (command 3) 0 ∷ []

abbrev pub tag_aborted_due_shown : Shows
tag_aborted_due_shown = record { rows = reverse tag_aborted_due_rows; history = reverse tag_aborted_due_events; ended = true }
