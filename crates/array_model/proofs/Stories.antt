-- Histories of whole runs, played on the plain disk array and computed: the blocks and the replies are those of
-- the reports, which an independent simulator printed. Written by tools/makers/array_case.py.
use Rattle.std.proofs.Common.{ℕ, ◌≡◌, true, false, List, [], ◌∷◌, reverse, refl}
use Rattle.std.specs.Prelude.{Some, None}
use lib.Count.{ones}
use Rattle.bus_base.specs.declared.ProcId.{ProcId}
use Rattle.bus_base.specs.declared.AbortKind.TheVariants as aborts
use Rattle.bus_base.specs.declared.Event.{Event}
use Rattle.bus_base.specs.declared.Event.TheVariants as events
use Rattle.bus_base.specs.declared.events.Pick.TheVariants as picks
use Rattle.scenario.specs.declared.value.FillDef.{FillDef}
use Rattle.scenario.specs.declared.value.UnitDef.{UnitDef}
use Rattle.scenario.specs.declared.value.Policy.TheVariants as policies
use Rattle.scenario.specs.declared.value.Load.TheVariants as loads
use Rattle.scenario.specs.declared.value.Tag.TheVariants as tags
use Rattle.scenario.specs.declared.value.Payload.TheVariants as payloads
use Rattle.scenario.specs.Value.{ScenarioValue}
use Rattle.scenario.specs.Needs.{need_of, sent_of}
use Rattle.array_model.specs.Contents.{Contents, starting_contents, printed_blocks}
use Rattle.array_model.specs.Execution.{good, check_condition, queue_full, sense_of}
use Rattle.array_model.specs.ArrayHistory.{array_after, disks_of, reply_of}

abbrev command : ℕ → ProcId
command n = record { command = n; sense = false }

abbrev sense : ℕ → ProcId
sense n = record { command = n; sense = true }

abbrev printed : List Contents → List (List (ℕ × List ℕ))
printed [] = []
printed (c ∷ disks) = printed_blocks c ∷ printed disks

abbrev started : List UnitDef → List FillDef → List Contents
started [] fills = []
started (u ∷ units) fills = starting_contents u fills ∷ started units fills

-- ---- aborts_and_resets

abbrev aborts_and_resets : ScenarioValue
aborts_and_resets = record {
  version = 1;
  hosts = record { dev = 2; latency = 100; most = 8; retries = 5; period = 50; offset = 8; lag = 0; offers = true } ∷ record { dev = 6; latency = 100; most = 1; retries = 5; period = 50; offset = 8; lag = 100; offers = true } ∷ record { dev = 3; latency = 100; most = 4; retries = 1; period = 50; offset = 8; lag = 55; offers = true } ∷ record { dev = 4; latency = 100; most = 2; retries = 2; period = 50; offset = 8; lag = 55; offers = true } ∷ record { dev = 1; latency = 100; most = 2; retries = 2; period = 50; offset = 8; lag = 0; offers = true } ∷ record { dev = 7; latency = 100; most = 4; retries = 0; period = 50; offset = 8; lag = 55; offers = true } ∷ record { dev = 5; latency = 100; most = 4; retries = 0; period = 50; offset = 8; lag = 55; offers = true } ∷ [];
  targets = record { dev = 0; latency = 100; retries = 1; disc = policies.NoSave 3; pick = picks.First; seek = 20000; period = 50; offset = 8; begins = false } ∷ [];
  units = record { target = 0; unit = 5; blocks = 8; size = 16; depth = 2 } ∷ [];
  fills = record { target = 0; unit = 5; lba = 0; bytes = (0 ∷ 60 ∷ 0 ∷ 73 ∷ 57 ∷ 198 ∷ 0 ∷ 0 ∷ 226 ∷ 78 ∷ 52 ∷ 120 ∷ 160 ∷ 163 ∷ 155 ∷ 140 ∷ []) } ∷ record { target = 0; unit = 5; lba = 1; bytes = (0 ∷ 0 ∷ 0 ∷ 169 ∷ 199 ∷ 0 ∷ 162 ∷ 204 ∷ 0 ∷ 153 ∷ 40 ∷ 0 ∷ 0 ∷ 145 ∷ 0 ∷ 190 ∷ []) } ∷ record { target = 0; unit = 5; lba = 2; bytes = (88 ∷ 0 ∷ 51 ∷ 210 ∷ 0 ∷ 0 ∷ 163 ∷ 95 ∷ 126 ∷ 110 ∷ 0 ∷ 162 ∷ 40 ∷ 0 ∷ 51 ∷ 163 ∷ []) } ∷ record { target = 0; unit = 5; lba = 5; bytes = (233 ∷ 224 ∷ 0 ∷ 109 ∷ 60 ∷ 83 ∷ 255 ∷ 0 ∷ 0 ∷ 0 ∷ 9 ∷ 240 ∷ 23 ∷ 145 ∷ 0 ∷ 0 ∷ []) } ∷ record { target = 0; unit = 5; lba = 7; bytes = (145 ∷ 237 ∷ 47 ∷ 0 ∷ 142 ∷ 249 ∷ 143 ∷ 0 ∷ 26 ∷ 70 ∷ 0 ∷ 43 ∷ 0 ∷ 0 ∷ 0 ∷ 163 ∷ []) } ∷ [];
  tapes = [];
  loads = [];
  commands = record { host = 4; target = 0; unit = 5; at = 11481; tag = tags.Simple 255; cdb = (8 ∷ 0 ∷ 0 ∷ 3 ∷ 1 ∷ 0 ∷ []); payload = payloads.Nothing } ∷ record { host = 6; target = 0; unit = 5; at = 2289; tag = tags.Simple 1; cdb = (4 ∷ 0 ∷ 0 ∷ 0 ∷ 0 ∷ 0 ∷ []); payload = payloads.Nothing } ∷ record { host = 4; target = 0; unit = 5; at = 3238; tag = tags.Simple 2; cdb = (10 ∷ 0 ∷ 0 ∷ 6 ∷ 1 ∷ 0 ∷ []); payload = payloads.Hex (255 ∷ 0 ∷ 0 ∷ 79 ∷ 0 ∷ 145 ∷ 78 ∷ 0 ∷ 0 ∷ 255 ∷ 153 ∷ 201 ∷ 0 ∷ 0 ∷ 255 ∷ 255 ∷ []) } ∷ record { host = 4; target = 0; unit = 5; at = 13442; tag = tags.Untagged; cdb = (18 ∷ 0 ∷ 0 ∷ 0 ∷ 5 ∷ 0 ∷ []); payload = payloads.Nothing } ∷ record { host = 6; target = 0; unit = 5; at = 8041; tag = tags.Untagged; cdb = (40 ∷ 24 ∷ 0 ∷ 0 ∷ 0 ∷ 7 ∷ 0 ∷ 0 ∷ 1 ∷ 0 ∷ []); payload = payloads.Nothing } ∷ [];
  aborts = record { host = 1; target = 0; unit = 5; at = 105264; what = aborts.Device } ∷ record { host = 2; target = 0; unit = 5; at = 35104; what = aborts.All } ∷ [];
  resets = record { dev = 7; at = 114704 } ∷ record { dev = 3; at = 10145 } ∷ record { dev = 3; at = 182069 } ∷ [];
  faults = [];
}

abbrev aborts_and_resets_events : List Event
aborts_and_resets_events = events.Reset 3 ∷ events.Accept (command 5) ∷ events.Accept (command 1) ∷ events.Refuse (command 3) ∷ events.End (command 3) 40 ∷ events.Aborted 2 0 5 aborts.All ∷ events.Run (command 5) ∷ events.End (command 5) 2 ∷ events.Accept (sense 5) ∷ events.Run (sense 5) ∷ events.Reset 7 ∷ events.Accept (command 4) ∷ events.Aborted 1 0 5 aborts.Device ∷ events.Reset 3 ∷ []

aborts_and_resets_blocks : printed (disks_of (array_after aborts_and_resets (reverse aborts_and_resets_events))) ≡ printed (started aborts_and_resets.units (record { target = 0; unit = 5; lba = 0; bytes = (0 ∷ 60 ∷ 0 ∷ 73 ∷ 57 ∷ 198 ∷ 0 ∷ 0 ∷ 226 ∷ 78 ∷ 52 ∷ 120 ∷ 160 ∷ 163 ∷ 155 ∷ 140 ∷ []) } ∷ record { target = 0; unit = 5; lba = 1; bytes = (0 ∷ 0 ∷ 0 ∷ 169 ∷ 199 ∷ 0 ∷ 162 ∷ 204 ∷ 0 ∷ 153 ∷ 40 ∷ 0 ∷ 0 ∷ 145 ∷ 0 ∷ 190 ∷ []) } ∷ record { target = 0; unit = 5; lba = 2; bytes = (88 ∷ 0 ∷ 51 ∷ 210 ∷ 0 ∷ 0 ∷ 163 ∷ 95 ∷ 126 ∷ 110 ∷ 0 ∷ 162 ∷ 40 ∷ 0 ∷ 51 ∷ 163 ∷ []) } ∷ record { target = 0; unit = 5; lba = 5; bytes = (233 ∷ 224 ∷ 0 ∷ 109 ∷ 60 ∷ 83 ∷ 255 ∷ 0 ∷ 0 ∷ 0 ∷ 9 ∷ 240 ∷ 23 ∷ 145 ∷ 0 ∷ 0 ∷ []) } ∷ record { target = 0; unit = 5; lba = 7; bytes = (145 ∷ 237 ∷ 47 ∷ 0 ∷ 142 ∷ 249 ∷ 143 ∷ 0 ∷ 26 ∷ 70 ∷ 0 ∷ 43 ∷ 0 ∷ 0 ∷ 0 ∷ 163 ∷ []) } ∷ []))
unfolding need_of sent_of ones
aborts_and_resets_blocks = refl

aborts_and_resets_reply_1 : reply_of (array_after aborts_and_resets (reverse aborts_and_resets_events)) (command 3) ≡ Some (queue_full)
unfolding need_of sent_of ones
aborts_and_resets_reply_1 = refl

-- the queue is full, so it may not enter
aborts_and_resets_full_3 : array_after aborts_and_resets (reverse (events.Reset 3 ∷ events.Accept (command 5) ∷ events.Accept (command 1) ∷ events.Accept (command 3) ∷ [])) ≡ None
unfolding need_of sent_of ones
aborts_and_resets_full_3 = refl

-- ---- all

abbrev all : ScenarioValue
all = record {
  version = 1;
  hosts = record { dev = 6; latency = 0; most = 8; retries = 2; period = 0; offset = 0; lag = 0; offers = true } ∷ record { dev = 7; latency = 0; most = 8; retries = 2; period = 0; offset = 0; lag = 0; offers = true } ∷ [];
  targets = record { dev = 0; latency = 0; retries = 2; disc = policies.Command; pick = picks.First; seek = 0; period = 0; offset = 0; begins = false } ∷ [];
  units = record { target = 0; unit = 0; blocks = 4; size = 16; depth = 8 } ∷ [];
  fills = [];
  tapes = [];
  loads = [];
  commands = record { host = 6; target = 0; unit = 0; at = 0; tag = tags.Untagged; cdb = (8 ∷ 0 ∷ 0 ∷ 9 ∷ 1 ∷ 0 ∷ []); payload = payloads.Nothing } ∷ record { host = 7; target = 0; unit = 0; at = 40000; tag = tags.Simple 2; cdb = (10 ∷ 0 ∷ 0 ∷ 1 ∷ 1 ∷ 0 ∷ []); payload = payloads.From 16 } ∷ record { host = 6; target = 0; unit = 0; at = 60000; tag = tags.Untagged; cdb = (3 ∷ 0 ∷ 0 ∷ 0 ∷ 18 ∷ 0 ∷ []); payload = payloads.Nothing } ∷ [];
  aborts = record { host = 6; target = 0; unit = 0; at = 14000; what = aborts.All } ∷ [];
  resets = [];
  faults = [];
}

abbrev all_events : List Event
all_events = events.Accept (command 1) ∷ events.Run (command 1) ∷ events.End (command 1) 2 ∷ events.Aborted 6 0 0 aborts.All ∷ events.Accept (command 2) ∷ events.Run (command 2) ∷ events.End (command 2) 0 ∷ events.Accept (command 3) ∷ events.Run (command 3) ∷ events.End (command 3) 0 ∷ []

all_blocks : printed (disks_of (array_after all (reverse all_events))) ≡ printed (started all.units (record { target = 0; unit = 0; lba = 1; bytes = (16 ∷ 17 ∷ 18 ∷ 19 ∷ 20 ∷ 21 ∷ 22 ∷ 23 ∷ 24 ∷ 25 ∷ 26 ∷ 27 ∷ 28 ∷ 29 ∷ 30 ∷ 31 ∷ []) } ∷ []))
unfolding need_of sent_of ones
all_blocks = refl

all_reply_1 : reply_of (array_after all (reverse all_events)) (command 2) ≡ Some (good ([]))
unfolding need_of sent_of ones
all_reply_1 = refl

all_reply_2 : reply_of (array_after all (reverse all_events)) (command 3) ≡ Some (good (112 ∷ 0 ∷ 0 ∷ 0 ∷ 0 ∷ 0 ∷ 0 ∷ 10 ∷ 0 ∷ 0 ∷ 0 ∷ 0 ∷ 0 ∷ 0 ∷ 0 ∷ 0 ∷ 0 ∷ 0 ∷ []))
unfolding need_of sent_of ones
all_reply_2 = refl

-- ---- called_again_for_sense

abbrev called_again_for_sense : ScenarioValue
called_again_for_sense = record {
  version = 1;
  hosts = record { dev = 7; latency = 0; most = 1; retries = 0; period = 0; offset = 0; lag = 0; offers = true } ∷ [];
  targets = record { dev = 0; latency = 2; retries = 2; disc = policies.Never; pick = picks.First; seek = 0; period = 0; offset = 0; begins = false } ∷ [];
  units = record { target = 0; unit = 0; blocks = 1; size = 16; depth = 1 } ∷ [];
  fills = [];
  tapes = [];
  loads = [];
  commands = record { host = 7; target = 0; unit = 0; at = 0; tag = tags.Untagged; cdb = (8 ∷ 0 ∷ 0 ∷ 1 ∷ 1 ∷ 0 ∷ []); payload = payloads.Nothing } ∷ [];
  aborts = [];
  resets = [];
  faults = record { at = 12000; bit = 0 } ∷ [];
}

abbrev called_again_for_sense_events : List Event
called_again_for_sense_events = events.Accept (command 1) ∷ events.Run (command 1) ∷ events.End (command 1) 2 ∷ events.Accept (sense 1) ∷ events.Run (sense 1) ∷ events.End (sense 1) 0 ∷ []

called_again_for_sense_blocks : printed (disks_of (array_after called_again_for_sense (reverse called_again_for_sense_events))) ≡ printed (started called_again_for_sense.units ([]))
unfolding need_of sent_of ones
called_again_for_sense_blocks = refl

called_again_for_sense_reply_1 : reply_of (array_after called_again_for_sense (reverse called_again_for_sense_events)) (command 1) ≡ Some (check_condition (sense_of 5 33 0))
unfolding need_of sent_of ones
called_again_for_sense_reply_1 = refl

called_again_for_sense_reply_2 : reply_of (array_after called_again_for_sense (reverse called_again_for_sense_events)) (sense 1) ≡ Some (good (112 ∷ 0 ∷ 5 ∷ 0 ∷ 0 ∷ 0 ∷ 0 ∷ 10 ∷ 0 ∷ 0 ∷ 0 ∷ 0 ∷ 33 ∷ 0 ∷ 0 ∷ 0 ∷ 0 ∷ 0 ∷ []))
unfolding need_of sent_of ones
called_again_for_sense_reply_2 = refl

-- ---- capacity_of_the_largest

abbrev capacity_of_the_largest : ScenarioValue
capacity_of_the_largest = record {
  version = 1;
  hosts = record { dev = 7; latency = 0; most = 1; retries = 2; period = 0; offset = 0; lag = 0; offers = true } ∷ [];
  targets = record { dev = 0; latency = 0; retries = 2; disc = policies.Never; pick = picks.First; seek = 0; period = 0; offset = 0; begins = false } ∷ [];
  units = record { target = 0; unit = 0; blocks = 4294967296; size = 512; depth = 1 } ∷ [];
  fills = [];
  tapes = [];
  loads = [];
  commands = record { host = 7; target = 0; unit = 0; at = 0; tag = tags.Untagged; cdb = (37 ∷ 0 ∷ 0 ∷ 0 ∷ 0 ∷ 0 ∷ 0 ∷ 0 ∷ 0 ∷ 0 ∷ []); payload = payloads.Nothing } ∷ [];
  aborts = [];
  resets = [];
  faults = [];
}

abbrev capacity_of_the_largest_events : List Event
capacity_of_the_largest_events = events.Accept (command 1) ∷ events.Run (command 1) ∷ events.End (command 1) 0 ∷ []

capacity_of_the_largest_blocks : printed (disks_of (array_after capacity_of_the_largest (reverse capacity_of_the_largest_events))) ≡ printed (started capacity_of_the_largest.units ([]))
unfolding need_of sent_of ones
capacity_of_the_largest_blocks = refl

capacity_of_the_largest_reply_1 : reply_of (array_after capacity_of_the_largest (reverse capacity_of_the_largest_events)) (command 1) ≡ Some (good (255 ∷ 255 ∷ 255 ∷ 255 ∷ 0 ∷ 0 ∷ 2 ∷ 0 ∷ []))
unfolding need_of sent_of ones
capacity_of_the_largest_reply_1 = refl

-- ---- checks

abbrev checks : ScenarioValue
checks = record {
  version = 1;
  hosts = record { dev = 7; latency = 0; most = 6; retries = 2; period = 0; offset = 0; lag = 0; offers = true } ∷ record { dev = 6; latency = 0; most = 6; retries = 2; period = 0; offset = 0; lag = 0; offers = true } ∷ [];
  targets = record { dev = 0; latency = 0; retries = 2; disc = policies.Command; pick = picks.Last; seek = 1000000; period = 0; offset = 0; begins = false } ∷ [];
  units = record { target = 0; unit = 0; blocks = 1; size = 16; depth = 6 } ∷ [];
  fills = [];
  tapes = [];
  loads = [];
  commands = record { host = 7; target = 0; unit = 0; at = 0; tag = tags.Simple 0; cdb = (8 ∷ 0 ∷ 0 ∷ 1 ∷ 1 ∷ 0 ∷ []); payload = payloads.Nothing } ∷ record { host = 6; target = 0; unit = 0; at = 0; tag = tags.Simple 0; cdb = (0 ∷ 0 ∷ 0 ∷ 0 ∷ 0 ∷ 0 ∷ []); payload = payloads.Nothing } ∷ [];
  aborts = [];
  resets = [];
  faults = [];
}

abbrev checks_events : List Event
checks_events = events.Accept (command 1) ∷ events.Accept (command 2) ∷ events.Run (command 1) ∷ events.End (command 1) 2 ∷ events.Accept (sense 1) ∷ events.Run (sense 1) ∷ events.End (sense 1) 0 ∷ events.Run (command 2) ∷ events.End (command 2) 0 ∷ []

checks_blocks : printed (disks_of (array_after checks (reverse checks_events))) ≡ printed (started checks.units ([]))
unfolding need_of sent_of ones
checks_blocks = refl

checks_reply_1 : reply_of (array_after checks (reverse checks_events)) (command 1) ≡ Some (check_condition (sense_of 5 33 0))
unfolding need_of sent_of ones
checks_reply_1 = refl

checks_reply_2 : reply_of (array_after checks (reverse checks_events)) (sense 1) ≡ Some (good (112 ∷ 0 ∷ 5 ∷ 0 ∷ 0 ∷ 0 ∷ 0 ∷ 10 ∷ 0 ∷ 0 ∷ 0 ∷ 0 ∷ 33 ∷ 0 ∷ 0 ∷ 0 ∷ 0 ∷ 0 ∷ []))
unfolding need_of sent_of ones
checks_reply_2 = refl

checks_reply_3 : reply_of (array_after checks (reverse checks_events)) (command 2) ≡ Some (good ([]))
unfolding need_of sent_of ones
checks_reply_3 = refl

-- ---- conflicts

abbrev conflicts : ScenarioValue
conflicts = record {
  version = 1;
  hosts = record { dev = 7; latency = 0; most = 6; retries = 2; period = 0; offset = 0; lag = 0; offers = true } ∷ record { dev = 6; latency = 0; most = 6; retries = 2; period = 0; offset = 0; lag = 0; offers = true } ∷ [];
  targets = record { dev = 0; latency = 0; retries = 2; disc = policies.Command; pick = picks.Last; seek = 1000000; period = 0; offset = 0; begins = false } ∷ [];
  units = record { target = 0; unit = 0; blocks = 1; size = 16; depth = 6 } ∷ [];
  fills = [];
  tapes = [];
  loads = [];
  commands = record { host = 7; target = 0; unit = 0; at = 0; tag = tags.Simple 0; cdb = (0 ∷ 0 ∷ 0 ∷ 0 ∷ 0 ∷ 0 ∷ []); payload = payloads.Nothing } ∷ record { host = 7; target = 0; unit = 0; at = 0; tag = tags.Simple 1; cdb = (10 ∷ 0 ∷ 0 ∷ 0 ∷ 1 ∷ 0 ∷ []); payload = payloads.From 32 } ∷ record { host = 7; target = 0; unit = 0; at = 0; tag = tags.Simple 2; cdb = (10 ∷ 0 ∷ 0 ∷ 0 ∷ 1 ∷ 0 ∷ []); payload = payloads.From 64 } ∷ record { host = 6; target = 0; unit = 0; at = 0; tag = tags.Simple 0; cdb = (10 ∷ 0 ∷ 0 ∷ 0 ∷ 1 ∷ 0 ∷ []); payload = payloads.From 96 } ∷ [];
  aborts = [];
  resets = [];
  faults = [];
}

abbrev conflicts_events : List Event
conflicts_events = events.Accept (command 1) ∷ events.Accept (command 2) ∷ events.Accept (command 3) ∷ events.Accept (command 4) ∷ events.Run (command 1) ∷ events.End (command 1) 0 ∷ events.Run (command 4) ∷ events.End (command 4) 0 ∷ events.Run (command 2) ∷ events.End (command 2) 0 ∷ events.Run (command 3) ∷ events.End (command 3) 0 ∷ []

conflicts_blocks : printed (disks_of (array_after conflicts (reverse conflicts_events))) ≡ printed (started conflicts.units (record { target = 0; unit = 0; lba = 0; bytes = (64 ∷ 65 ∷ 66 ∷ 67 ∷ 68 ∷ 69 ∷ 70 ∷ 71 ∷ 72 ∷ 73 ∷ 74 ∷ 75 ∷ 76 ∷ 77 ∷ 78 ∷ 79 ∷ []) } ∷ []))
unfolding need_of sent_of ones
conflicts_blocks = refl

conflicts_reply_1 : reply_of (array_after conflicts (reverse conflicts_events)) (command 1) ≡ Some (good ([]))
unfolding need_of sent_of ones
conflicts_reply_1 = refl

conflicts_reply_2 : reply_of (array_after conflicts (reverse conflicts_events)) (command 2) ≡ Some (good ([]))
unfolding need_of sent_of ones
conflicts_reply_2 = refl

conflicts_reply_3 : reply_of (array_after conflicts (reverse conflicts_events)) (command 3) ≡ Some (good ([]))
unfolding need_of sent_of ones
conflicts_reply_3 = refl

conflicts_reply_4 : reply_of (array_after conflicts (reverse conflicts_events)) (command 4) ≡ Some (good ([]))
unfolding need_of sent_of ones
conflicts_reply_4 = refl

-- ---- failures

abbrev failures : ScenarioValue
failures = record {
  version = 1;
  hosts = record { dev = 3; latency = 100; most = 8; retries = 0; period = 25; offset = 8; lag = 0; offers = true } ∷ [];
  targets = record { dev = 0; latency = 0; retries = 0; disc = policies.Never; pick = picks.Last; seek = 0; period = 50; offset = 8; begins = false } ∷ record { dev = 1; latency = 100; retries = 0; disc = policies.Never; pick = picks.Last; seek = 0; period = 49; offset = 8; begins = false } ∷ [];
  units = record { target = 0; unit = 0; blocks = 1; size = 32; depth = 4 } ∷ record { target = 0; unit = 6; blocks = 1; size = 32; depth = 16 } ∷ record { target = 1; unit = 4; blocks = 1; size = 32; depth = 2 } ∷ record { target = 1; unit = 7; blocks = 2; size = 32; depth = 4 } ∷ [];
  fills = record { target = 0; unit = 0; lba = 0; bytes = (243 ∷ 0 ∷ 92 ∷ 0 ∷ 50 ∷ 24 ∷ 195 ∷ 87 ∷ 111 ∷ 0 ∷ 136 ∷ 94 ∷ 0 ∷ 84 ∷ 86 ∷ 63 ∷ 217 ∷ 1 ∷ 0 ∷ 0 ∷ 148 ∷ 118 ∷ 0 ∷ 133 ∷ 226 ∷ 222 ∷ 23 ∷ 169 ∷ 0 ∷ 109 ∷ 154 ∷ 187 ∷ []) } ∷ record { target = 1; unit = 4; lba = 0; bytes = (15 ∷ 0 ∷ 64 ∷ 0 ∷ 166 ∷ 0 ∷ 91 ∷ 210 ∷ 118 ∷ 172 ∷ 124 ∷ 0 ∷ 201 ∷ 188 ∷ 63 ∷ 212 ∷ 0 ∷ 13 ∷ 124 ∷ 188 ∷ 31 ∷ 0 ∷ 0 ∷ 131 ∷ 158 ∷ 0 ∷ 157 ∷ 0 ∷ 101 ∷ 238 ∷ 166 ∷ 0 ∷ []) } ∷ record { target = 1; unit = 7; lba = 0; bytes = (0 ∷ 0 ∷ 143 ∷ 218 ∷ 64 ∷ 47 ∷ 0 ∷ 177 ∷ 0 ∷ 165 ∷ 167 ∷ 0 ∷ 230 ∷ 88 ∷ 0 ∷ 103 ∷ 0 ∷ 0 ∷ 206 ∷ 35 ∷ 0 ∷ 94 ∷ 0 ∷ 217 ∷ 54 ∷ 0 ∷ 244 ∷ 75 ∷ 233 ∷ 39 ∷ 0 ∷ 0 ∷ []) } ∷ record { target = 1; unit = 7; lba = 1; bytes = (216 ∷ 235 ∷ 0 ∷ 0 ∷ 45 ∷ 0 ∷ 66 ∷ 149 ∷ 0 ∷ 0 ∷ 0 ∷ 203 ∷ 69 ∷ 42 ∷ 9 ∷ 82 ∷ 0 ∷ 204 ∷ 24 ∷ 168 ∷ 5 ∷ 0 ∷ 192 ∷ 82 ∷ 0 ∷ 18 ∷ 139 ∷ 67 ∷ 0 ∷ 52 ∷ 0 ∷ 98 ∷ []) } ∷ [];
  tapes = [];
  loads = [];
  commands = record { host = 3; target = 1; unit = 7; at = 24081; tag = tags.Ordered 0; cdb = (10 ∷ 0 ∷ 0 ∷ 0 ∷ 2 ∷ 0 ∷ []); payload = payloads.From 227 } ∷ record { host = 3; target = 1; unit = 7; at = 19892; tag = tags.Untagged; cdb = (42 ∷ 8 ∷ 0 ∷ 0 ∷ 0 ∷ 0 ∷ 0 ∷ 0 ∷ 2 ∷ 0 ∷ []); payload = payloads.From 197 } ∷ record { host = 3; target = 0; unit = 0; at = 37; tag = tags.Simple 255; cdb = (10 ∷ 0 ∷ 0 ∷ 0 ∷ 1 ∷ 0 ∷ []); payload = payloads.From 192 } ∷ [];
  aborts = record { host = 3; target = 0; unit = 0; at = 83587; what = aborts.WholeQueue } ∷ record { host = 3; target = 0; unit = 0; at = 133964; what = aborts.WholeQueue } ∷ record { host = 3; target = 1; unit = 4; at = 83662; what = (aborts.Tag 255) } ∷ [];
  resets = record { dev = 1; at = 94094 } ∷ record { dev = 0; at = 40497 } ∷ record { dev = 0; at = 52332 } ∷ [];
  faults = record { at = 78119; bit = 0 } ∷ record { at = 95839; bit = 5 } ∷ record { at = 36691; bit = 6 } ∷ [];
}

abbrev failures_events : List Event
failures_events = events.Fail (command 1) 71 ∷ events.End (command 1) 2 ∷ events.Reset 0 ∷ events.Fail (command 2) 71 ∷ events.End (command 2) 2 ∷ events.Accept (sense 2) ∷ events.Reset 1 ∷ events.Aborted 3 0 0 aborts.WholeQueue ∷ events.Aborted 3 1 4 (aborts.Tag 255) ∷ events.Accept (command 3) ∷ events.Run (command 3) ∷ events.End (command 3) 2 ∷ events.Accept (sense 3) ∷ events.Run (sense 3) ∷ events.End (sense 3) 0 ∷ []

failures_blocks : printed (disks_of (array_after failures (reverse failures_events))) ≡ printed (started failures.units (record { target = 0; unit = 0; lba = 0; bytes = (243 ∷ 0 ∷ 92 ∷ 0 ∷ 50 ∷ 24 ∷ 195 ∷ 87 ∷ 111 ∷ 0 ∷ 136 ∷ 94 ∷ 0 ∷ 84 ∷ 86 ∷ 63 ∷ 217 ∷ 1 ∷ 0 ∷ 0 ∷ 148 ∷ 118 ∷ 0 ∷ 133 ∷ 226 ∷ 222 ∷ 23 ∷ 169 ∷ 0 ∷ 109 ∷ 154 ∷ 187 ∷ []) } ∷ record { target = 1; unit = 4; lba = 0; bytes = (15 ∷ 0 ∷ 64 ∷ 0 ∷ 166 ∷ 0 ∷ 91 ∷ 210 ∷ 118 ∷ 172 ∷ 124 ∷ 0 ∷ 201 ∷ 188 ∷ 63 ∷ 212 ∷ 0 ∷ 13 ∷ 124 ∷ 188 ∷ 31 ∷ 0 ∷ 0 ∷ 131 ∷ 158 ∷ 0 ∷ 157 ∷ 0 ∷ 101 ∷ 238 ∷ 166 ∷ 0 ∷ []) } ∷ record { target = 1; unit = 7; lba = 0; bytes = (0 ∷ 0 ∷ 143 ∷ 218 ∷ 64 ∷ 47 ∷ 0 ∷ 177 ∷ 0 ∷ 165 ∷ 167 ∷ 0 ∷ 230 ∷ 88 ∷ 0 ∷ 103 ∷ 0 ∷ 0 ∷ 206 ∷ 35 ∷ 0 ∷ 94 ∷ 0 ∷ 217 ∷ 54 ∷ 0 ∷ 244 ∷ 75 ∷ 233 ∷ 39 ∷ 0 ∷ 0 ∷ []) } ∷ record { target = 1; unit = 7; lba = 1; bytes = (216 ∷ 235 ∷ 0 ∷ 0 ∷ 45 ∷ 0 ∷ 66 ∷ 149 ∷ 0 ∷ 0 ∷ 0 ∷ 203 ∷ 69 ∷ 42 ∷ 9 ∷ 82 ∷ 0 ∷ 204 ∷ 24 ∷ 168 ∷ 5 ∷ 0 ∷ 192 ∷ 82 ∷ 0 ∷ 18 ∷ 139 ∷ 67 ∷ 0 ∷ 52 ∷ 0 ∷ 98 ∷ []) } ∷ []))
unfolding need_of sent_of ones
failures_blocks = refl

failures_reply_1 : reply_of (array_after failures (reverse failures_events)) (command 3) ≡ Some (check_condition (sense_of 6 41 0))
unfolding need_of sent_of ones
failures_reply_1 = refl

failures_reply_2 : reply_of (array_after failures (reverse failures_events)) (sense 3) ≡ Some (good (112 ∷ 0 ∷ 6 ∷ 0 ∷ 0 ∷ 0 ∷ 0 ∷ 10 ∷ 0 ∷ 0 ∷ 0 ∷ 0 ∷ 41 ∷ 0 ∷ 0 ∷ 0 ∷ 0 ∷ 0 ∷ []))
unfolding need_of sent_of ones
failures_reply_2 = refl

-- ---- full

abbrev full : ScenarioValue
full = record {
  version = 1;
  hosts = record { dev = 6; latency = 0; most = 8; retries = 2; period = 0; offset = 0; lag = 0; offers = true } ∷ record { dev = 7; latency = 0; most = 8; retries = 2; period = 0; offset = 0; lag = 0; offers = true } ∷ [];
  targets = record { dev = 0; latency = 0; retries = 2; disc = policies.Command; pick = picks.First; seek = 1000000; period = 0; offset = 0; begins = false } ∷ [];
  units = record { target = 0; unit = 0; blocks = 2; size = 16; depth = 3 } ∷ record { target = 0; unit = 1; blocks = 2; size = 16; depth = 1 } ∷ [];
  fills = [];
  tapes = [];
  loads = [];
  commands = record { host = 7; target = 0; unit = 0; at = 0; tag = tags.Simple 1; cdb = (10 ∷ 0 ∷ 0 ∷ 1 ∷ 1 ∷ 0 ∷ []); payload = payloads.From 16 } ∷ record { host = 6; target = 0; unit = 0; at = 0; tag = tags.Simple 2; cdb = (10 ∷ 0 ∷ 0 ∷ 1 ∷ 1 ∷ 0 ∷ []); payload = payloads.From 32 } ∷ record { host = 6; target = 0; unit = 0; at = 0; tag = tags.Simple 9; cdb = (10 ∷ 0 ∷ 0 ∷ 0 ∷ 1 ∷ 0 ∷ []); payload = payloads.From 80 } ∷ record { host = 7; target = 0; unit = 0; at = 50000; tag = tags.Head 3; cdb = (10 ∷ 0 ∷ 0 ∷ 0 ∷ 1 ∷ 0 ∷ []); payload = payloads.From 48 } ∷ record { host = 6; target = 0; unit = 1; at = 100000; tag = tags.Ordered 4; cdb = (10 ∷ 0 ∷ 0 ∷ 0 ∷ 1 ∷ 0 ∷ []); payload = payloads.From 64 } ∷ record { host = 6; target = 0; unit = 1; at = 100000; tag = tags.Simple 5; cdb = (18 ∷ 0 ∷ 0 ∷ 0 ∷ 36 ∷ 0 ∷ []); payload = payloads.Nothing } ∷ record { host = 7; target = 0; unit = 1; at = 100000; tag = tags.Untagged; cdb = (3 ∷ 0 ∷ 0 ∷ 0 ∷ 4 ∷ 0 ∷ []); payload = payloads.Nothing } ∷ [];
  aborts = record { host = 6; target = 0; unit = 0; at = 150000; what = (aborts.Tag 2) } ∷ record { host = 6; target = 0; unit = 1; at = 3000000; what = aborts.Device } ∷ [];
  resets = [];
  faults = [];
}

abbrev full_events : List Event
full_events = events.Accept (command 1) ∷ events.Accept (command 2) ∷ events.Accept (command 3) ∷ events.Refuse (command 4) ∷ events.End (command 4) 40 ∷ events.Accept (command 7) ∷ events.Run (command 7) ∷ events.End (command 7) 0 ∷ events.Accept (command 5) ∷ events.Refuse (command 6) ∷ events.End (command 6) 40 ∷ events.Aborted 6 0 0 (aborts.Tag 2) ∷ events.Run (command 1) ∷ events.End (command 1) 0 ∷ events.Run (command 5) ∷ events.End (command 5) 0 ∷ events.Run (command 3) ∷ events.End (command 3) 0 ∷ events.Aborted 6 0 1 aborts.Device ∷ []

full_blocks : printed (disks_of (array_after full (reverse full_events))) ≡ printed (started full.units (record { target = 0; unit = 0; lba = 0; bytes = (80 ∷ 81 ∷ 82 ∷ 83 ∷ 84 ∷ 85 ∷ 86 ∷ 87 ∷ 88 ∷ 89 ∷ 90 ∷ 91 ∷ 92 ∷ 93 ∷ 94 ∷ 95 ∷ []) } ∷ record { target = 0; unit = 0; lba = 1; bytes = (16 ∷ 17 ∷ 18 ∷ 19 ∷ 20 ∷ 21 ∷ 22 ∷ 23 ∷ 24 ∷ 25 ∷ 26 ∷ 27 ∷ 28 ∷ 29 ∷ 30 ∷ 31 ∷ []) } ∷ record { target = 0; unit = 1; lba = 0; bytes = (64 ∷ 65 ∷ 66 ∷ 67 ∷ 68 ∷ 69 ∷ 70 ∷ 71 ∷ 72 ∷ 73 ∷ 74 ∷ 75 ∷ 76 ∷ 77 ∷ 78 ∷ 79 ∷ []) } ∷ []))
unfolding need_of sent_of ones
full_blocks = refl

full_reply_1 : reply_of (array_after full (reverse full_events)) (command 1) ≡ Some (good ([]))
unfolding need_of sent_of ones
full_reply_1 = refl

full_reply_2 : reply_of (array_after full (reverse full_events)) (command 3) ≡ Some (good ([]))
unfolding need_of sent_of ones
full_reply_2 = refl

full_reply_3 : reply_of (array_after full (reverse full_events)) (command 4) ≡ Some (queue_full)
unfolding need_of sent_of ones
full_reply_3 = refl

full_reply_4 : reply_of (array_after full (reverse full_events)) (command 5) ≡ Some (good ([]))
unfolding need_of sent_of ones
full_reply_4 = refl

full_reply_5 : reply_of (array_after full (reverse full_events)) (command 6) ≡ Some (queue_full)
unfolding need_of sent_of ones
full_reply_5 = refl

full_reply_6 : reply_of (array_after full (reverse full_events)) (command 7) ≡ Some (good (112 ∷ 0 ∷ 0 ∷ 0 ∷ []))
unfolding need_of sent_of ones
full_reply_6 = refl

-- the queue is full, so it may not enter
full_full_3 : array_after full (reverse (events.Accept (command 1) ∷ events.Accept (command 2) ∷ events.Accept (command 3) ∷ events.Accept (command 4) ∷ [])) ≡ None
unfolding need_of sent_of ones
full_full_3 = refl

-- the queue is full, so it may not enter
full_full_9 : array_after full (reverse (events.Accept (command 1) ∷ events.Accept (command 2) ∷ events.Accept (command 3) ∷ events.Refuse (command 4) ∷ events.End (command 4) 40 ∷ events.Accept (command 7) ∷ events.Run (command 7) ∷ events.End (command 7) 0 ∷ events.Accept (command 5) ∷ events.Accept (command 6) ∷ [])) ≡ None
unfolding need_of sent_of ones
full_full_9 = refl

-- ---- heads

abbrev heads : ScenarioValue
heads = record {
  version = 1;
  hosts = record { dev = 7; latency = 0; most = 6; retries = 2; period = 0; offset = 0; lag = 0; offers = true } ∷ [];
  targets = record { dev = 0; latency = 0; retries = 2; disc = policies.Command; pick = picks.First; seek = 1000000; period = 0; offset = 0; begins = false } ∷ [];
  units = record { target = 0; unit = 0; blocks = 1; size = 16; depth = 6 } ∷ [];
  fills = [];
  tapes = [];
  loads = [];
  commands = record { host = 7; target = 0; unit = 0; at = 0; tag = tags.Simple 0; cdb = (0 ∷ 0 ∷ 0 ∷ 0 ∷ 0 ∷ 0 ∷ []); payload = payloads.Nothing } ∷ record { host = 7; target = 0; unit = 0; at = 0; tag = tags.Simple 1; cdb = (0 ∷ 0 ∷ 0 ∷ 0 ∷ 0 ∷ 0 ∷ []); payload = payloads.Nothing } ∷ record { host = 7; target = 0; unit = 0; at = 0; tag = tags.Ordered 2; cdb = (0 ∷ 0 ∷ 0 ∷ 0 ∷ 0 ∷ 0 ∷ []); payload = payloads.Nothing } ∷ record { host = 7; target = 0; unit = 0; at = 0; tag = tags.Simple 3; cdb = (0 ∷ 0 ∷ 0 ∷ 0 ∷ 0 ∷ 0 ∷ []); payload = payloads.Nothing } ∷ record { host = 7; target = 0; unit = 0; at = 0; tag = tags.Head 4; cdb = (0 ∷ 0 ∷ 0 ∷ 0 ∷ 0 ∷ 0 ∷ []); payload = payloads.Nothing } ∷ record { host = 7; target = 0; unit = 0; at = 0; tag = tags.Head 5; cdb = (0 ∷ 0 ∷ 0 ∷ 0 ∷ 0 ∷ 0 ∷ []); payload = payloads.Nothing } ∷ [];
  aborts = [];
  resets = [];
  faults = [];
}

abbrev heads_events : List Event
heads_events = events.Accept (command 1) ∷ events.Accept (command 2) ∷ events.Accept (command 3) ∷ events.Accept (command 4) ∷ events.Accept (command 5) ∷ events.Accept (command 6) ∷ events.Run (command 1) ∷ events.End (command 1) 0 ∷ events.Run (command 6) ∷ events.End (command 6) 0 ∷ events.Run (command 5) ∷ events.End (command 5) 0 ∷ events.Run (command 2) ∷ events.End (command 2) 0 ∷ events.Run (command 3) ∷ events.End (command 3) 0 ∷ events.Run (command 4) ∷ events.End (command 4) 0 ∷ []

heads_blocks : printed (disks_of (array_after heads (reverse heads_events))) ≡ printed (started heads.units ([]))
unfolding need_of sent_of ones
heads_blocks = refl

heads_reply_1 : reply_of (array_after heads (reverse heads_events)) (command 1) ≡ Some (good ([]))
unfolding need_of sent_of ones
heads_reply_1 = refl

heads_reply_2 : reply_of (array_after heads (reverse heads_events)) (command 2) ≡ Some (good ([]))
unfolding need_of sent_of ones
heads_reply_2 = refl

heads_reply_3 : reply_of (array_after heads (reverse heads_events)) (command 3) ≡ Some (good ([]))
unfolding need_of sent_of ones
heads_reply_3 = refl

heads_reply_4 : reply_of (array_after heads (reverse heads_events)) (command 4) ≡ Some (good ([]))
unfolding need_of sent_of ones
heads_reply_4 = refl

heads_reply_5 : reply_of (array_after heads (reverse heads_events)) (command 5) ≡ Some (good ([]))
unfolding need_of sent_of ones
heads_reply_5 = refl

heads_reply_6 : reply_of (array_after heads (reverse heads_events)) (command 6) ≡ Some (good ([]))
unfolding need_of sent_of ones
heads_reply_6 = refl

-- ---- held

abbrev held : ScenarioValue
held = record {
  version = 1;
  hosts = record { dev = 6; latency = 0; most = 8; retries = 2; period = 0; offset = 0; lag = 0; offers = true } ∷ record { dev = 7; latency = 0; most = 8; retries = 2; period = 0; offset = 0; lag = 0; offers = true } ∷ [];
  targets = record { dev = 0; latency = 0; retries = 2; disc = policies.Command; pick = picks.Last; seek = 60000; period = 0; offset = 0; begins = false } ∷ [];
  units = record { target = 0; unit = 0; blocks = 4; size = 16; depth = 8 } ∷ [];
  fills = [];
  tapes = [];
  loads = [];
  commands = record { host = 6; target = 0; unit = 0; at = 0; tag = tags.Simple 1; cdb = (8 ∷ 0 ∷ 0 ∷ 9 ∷ 1 ∷ 0 ∷ []); payload = payloads.Nothing } ∷ record { host = 7; target = 0; unit = 0; at = 5000; tag = tags.Simple 2; cdb = (10 ∷ 0 ∷ 0 ∷ 1 ∷ 1 ∷ 0 ∷ []); payload = payloads.From 16 } ∷ record { host = 7; target = 0; unit = 0; at = 74000; tag = tags.Simple 3; cdb = (10 ∷ 0 ∷ 0 ∷ 2 ∷ 1 ∷ 0 ∷ []); payload = payloads.From 32 } ∷ [];
  aborts = [];
  resets = [];
  faults = [];
}

abbrev held_events : List Event
held_events = events.Accept (command 1) ∷ events.Accept (command 2) ∷ events.Run (command 1) ∷ events.End (command 1) 2 ∷ events.Accept (command 3) ∷ events.Accept (sense 1) ∷ events.Run (sense 1) ∷ events.End (sense 1) 0 ∷ events.Run (command 3) ∷ events.End (command 3) 0 ∷ events.Run (command 2) ∷ events.End (command 2) 0 ∷ []

held_blocks : printed (disks_of (array_after held (reverse held_events))) ≡ printed (started held.units (record { target = 0; unit = 0; lba = 1; bytes = (16 ∷ 17 ∷ 18 ∷ 19 ∷ 20 ∷ 21 ∷ 22 ∷ 23 ∷ 24 ∷ 25 ∷ 26 ∷ 27 ∷ 28 ∷ 29 ∷ 30 ∷ 31 ∷ []) } ∷ record { target = 0; unit = 0; lba = 2; bytes = (32 ∷ 33 ∷ 34 ∷ 35 ∷ 36 ∷ 37 ∷ 38 ∷ 39 ∷ 40 ∷ 41 ∷ 42 ∷ 43 ∷ 44 ∷ 45 ∷ 46 ∷ 47 ∷ []) } ∷ []))
unfolding need_of sent_of ones
held_blocks = refl

held_reply_1 : reply_of (array_after held (reverse held_events)) (command 1) ≡ Some (check_condition (sense_of 5 33 0))
unfolding need_of sent_of ones
held_reply_1 = refl

held_reply_2 : reply_of (array_after held (reverse held_events)) (sense 1) ≡ Some (good (112 ∷ 0 ∷ 5 ∷ 0 ∷ 0 ∷ 0 ∷ 0 ∷ 10 ∷ 0 ∷ 0 ∷ 0 ∷ 0 ∷ 33 ∷ 0 ∷ 0 ∷ 0 ∷ 0 ∷ 0 ∷ []))
unfolding need_of sent_of ones
held_reply_2 = refl

held_reply_3 : reply_of (array_after held (reverse held_events)) (command 2) ≡ Some (good ([]))
unfolding need_of sent_of ones
held_reply_3 = refl

held_reply_4 : reply_of (array_after held (reverse held_events)) (command 3) ≡ Some (good ([]))
unfolding need_of sent_of ones
held_reply_4 = refl

-- ---- last_block_written

abbrev last_block_written : ScenarioValue
last_block_written = record {
  version = 1;
  hosts = record { dev = 7; latency = 0; most = 1; retries = 2; period = 0; offset = 0; lag = 0; offers = true } ∷ [];
  targets = record { dev = 0; latency = 0; retries = 2; disc = policies.Never; pick = picks.First; seek = 0; period = 0; offset = 0; begins = false } ∷ [];
  units = record { target = 0; unit = 0; blocks = 4294967296; size = 512; depth = 1 } ∷ [];
  fills = [];
  tapes = [];
  loads = [];
  commands = record { host = 7; target = 0; unit = 0; at = 0; tag = tags.Untagged; cdb = (42 ∷ 0 ∷ 255 ∷ 255 ∷ 255 ∷ 255 ∷ 0 ∷ 0 ∷ 1 ∷ 0 ∷ []); payload = payloads.From 0 } ∷ [];
  aborts = [];
  resets = [];
  faults = [];
}

abbrev last_block_written_events : List Event
last_block_written_events = events.Accept (command 1) ∷ events.Run (command 1) ∷ events.End (command 1) 0 ∷ []

last_block_written_blocks : printed (disks_of (array_after last_block_written (reverse last_block_written_events))) ≡ printed (started last_block_written.units (record { target = 0; unit = 0; lba = 4294967295; bytes = (0 ∷ 1 ∷ 2 ∷ 3 ∷ 4 ∷ 5 ∷ 6 ∷ 7 ∷ 8 ∷ 9 ∷ 10 ∷ 11 ∷ 12 ∷ 13 ∷ 14 ∷ 15 ∷ 16 ∷ 17 ∷ 18 ∷ 19 ∷ 20 ∷ 21 ∷ 22 ∷ 23 ∷ 24 ∷ 25 ∷ 26 ∷ 27 ∷ 28 ∷ 29 ∷ 30 ∷ 31 ∷ 32 ∷ 33 ∷ 34 ∷ 35 ∷ 36 ∷ 37 ∷ 38 ∷ 39 ∷ 40 ∷ 41 ∷ 42 ∷ 43 ∷ 44 ∷ 45 ∷ 46 ∷ 47 ∷ 48 ∷ 49 ∷ 50 ∷ 51 ∷ 52 ∷ 53 ∷ 54 ∷ 55 ∷ 56 ∷ 57 ∷ 58 ∷ 59 ∷ 60 ∷ 61 ∷ 62 ∷ 63 ∷ 64 ∷ 65 ∷ 66 ∷ 67 ∷ 68 ∷ 69 ∷ 70 ∷ 71 ∷ 72 ∷ 73 ∷ 74 ∷ 75 ∷ 76 ∷ 77 ∷ 78 ∷ 79 ∷ 80 ∷ 81 ∷ 82 ∷ 83 ∷ 84 ∷ 85 ∷ 86 ∷ 87 ∷ 88 ∷ 89 ∷ 90 ∷ 91 ∷ 92 ∷ 93 ∷ 94 ∷ 95 ∷ 96 ∷ 97 ∷ 98 ∷ 99 ∷ 100 ∷ 101 ∷ 102 ∷ 103 ∷ 104 ∷ 105 ∷ 106 ∷ 107 ∷ 108 ∷ 109 ∷ 110 ∷ 111 ∷ 112 ∷ 113 ∷ 114 ∷ 115 ∷ 116 ∷ 117 ∷ 118 ∷ 119 ∷ 120 ∷ 121 ∷ 122 ∷ 123 ∷ 124 ∷ 125 ∷ 126 ∷ 127 ∷ 128 ∷ 129 ∷ 130 ∷ 131 ∷ 132 ∷ 133 ∷ 134 ∷ 135 ∷ 136 ∷ 137 ∷ 138 ∷ 139 ∷ 140 ∷ 141 ∷ 142 ∷ 143 ∷ 144 ∷ 145 ∷ 146 ∷ 147 ∷ 148 ∷ 149 ∷ 150 ∷ 151 ∷ 152 ∷ 153 ∷ 154 ∷ 155 ∷ 156 ∷ 157 ∷ 158 ∷ 159 ∷ 160 ∷ 161 ∷ 162 ∷ 163 ∷ 164 ∷ 165 ∷ 166 ∷ 167 ∷ 168 ∷ 169 ∷ 170 ∷ 171 ∷ 172 ∷ 173 ∷ 174 ∷ 175 ∷ 176 ∷ 177 ∷ 178 ∷ 179 ∷ 180 ∷ 181 ∷ 182 ∷ 183 ∷ 184 ∷ 185 ∷ 186 ∷ 187 ∷ 188 ∷ 189 ∷ 190 ∷ 191 ∷ 192 ∷ 193 ∷ 194 ∷ 195 ∷ 196 ∷ 197 ∷ 198 ∷ 199 ∷ 200 ∷ 201 ∷ 202 ∷ 203 ∷ 204 ∷ 205 ∷ 206 ∷ 207 ∷ 208 ∷ 209 ∷ 210 ∷ 211 ∷ 212 ∷ 213 ∷ 214 ∷ 215 ∷ 216 ∷ 217 ∷ 218 ∷ 219 ∷ 220 ∷ 221 ∷ 222 ∷ 223 ∷ 224 ∷ 225 ∷ 226 ∷ 227 ∷ 228 ∷ 229 ∷ 230 ∷ 231 ∷ 232 ∷ 233 ∷ 234 ∷ 235 ∷ 236 ∷ 237 ∷ 238 ∷ 239 ∷ 240 ∷ 241 ∷ 242 ∷ 243 ∷ 244 ∷ 245 ∷ 246 ∷ 247 ∷ 248 ∷ 249 ∷ 250 ∷ 251 ∷ 252 ∷ 253 ∷ 254 ∷ 255 ∷ 0 ∷ 1 ∷ 2 ∷ 3 ∷ 4 ∷ 5 ∷ 6 ∷ 7 ∷ 8 ∷ 9 ∷ 10 ∷ 11 ∷ 12 ∷ 13 ∷ 14 ∷ 15 ∷ 16 ∷ 17 ∷ 18 ∷ 19 ∷ 20 ∷ 21 ∷ 22 ∷ 23 ∷ 24 ∷ 25 ∷ 26 ∷ 27 ∷ 28 ∷ 29 ∷ 30 ∷ 31 ∷ 32 ∷ 33 ∷ 34 ∷ 35 ∷ 36 ∷ 37 ∷ 38 ∷ 39 ∷ 40 ∷ 41 ∷ 42 ∷ 43 ∷ 44 ∷ 45 ∷ 46 ∷ 47 ∷ 48 ∷ 49 ∷ 50 ∷ 51 ∷ 52 ∷ 53 ∷ 54 ∷ 55 ∷ 56 ∷ 57 ∷ 58 ∷ 59 ∷ 60 ∷ 61 ∷ 62 ∷ 63 ∷ 64 ∷ 65 ∷ 66 ∷ 67 ∷ 68 ∷ 69 ∷ 70 ∷ 71 ∷ 72 ∷ 73 ∷ 74 ∷ 75 ∷ 76 ∷ 77 ∷ 78 ∷ 79 ∷ 80 ∷ 81 ∷ 82 ∷ 83 ∷ 84 ∷ 85 ∷ 86 ∷ 87 ∷ 88 ∷ 89 ∷ 90 ∷ 91 ∷ 92 ∷ 93 ∷ 94 ∷ 95 ∷ 96 ∷ 97 ∷ 98 ∷ 99 ∷ 100 ∷ 101 ∷ 102 ∷ 103 ∷ 104 ∷ 105 ∷ 106 ∷ 107 ∷ 108 ∷ 109 ∷ 110 ∷ 111 ∷ 112 ∷ 113 ∷ 114 ∷ 115 ∷ 116 ∷ 117 ∷ 118 ∷ 119 ∷ 120 ∷ 121 ∷ 122 ∷ 123 ∷ 124 ∷ 125 ∷ 126 ∷ 127 ∷ 128 ∷ 129 ∷ 130 ∷ 131 ∷ 132 ∷ 133 ∷ 134 ∷ 135 ∷ 136 ∷ 137 ∷ 138 ∷ 139 ∷ 140 ∷ 141 ∷ 142 ∷ 143 ∷ 144 ∷ 145 ∷ 146 ∷ 147 ∷ 148 ∷ 149 ∷ 150 ∷ 151 ∷ 152 ∷ 153 ∷ 154 ∷ 155 ∷ 156 ∷ 157 ∷ 158 ∷ 159 ∷ 160 ∷ 161 ∷ 162 ∷ 163 ∷ 164 ∷ 165 ∷ 166 ∷ 167 ∷ 168 ∷ 169 ∷ 170 ∷ 171 ∷ 172 ∷ 173 ∷ 174 ∷ 175 ∷ 176 ∷ 177 ∷ 178 ∷ 179 ∷ 180 ∷ 181 ∷ 182 ∷ 183 ∷ 184 ∷ 185 ∷ 186 ∷ 187 ∷ 188 ∷ 189 ∷ 190 ∷ 191 ∷ 192 ∷ 193 ∷ 194 ∷ 195 ∷ 196 ∷ 197 ∷ 198 ∷ 199 ∷ 200 ∷ 201 ∷ 202 ∷ 203 ∷ 204 ∷ 205 ∷ 206 ∷ 207 ∷ 208 ∷ 209 ∷ 210 ∷ 211 ∷ 212 ∷ 213 ∷ 214 ∷ 215 ∷ 216 ∷ 217 ∷ 218 ∷ 219 ∷ 220 ∷ 221 ∷ 222 ∷ 223 ∷ 224 ∷ 225 ∷ 226 ∷ 227 ∷ 228 ∷ 229 ∷ 230 ∷ 231 ∷ 232 ∷ 233 ∷ 234 ∷ 235 ∷ 236 ∷ 237 ∷ 238 ∷ 239 ∷ 240 ∷ 241 ∷ 242 ∷ 243 ∷ 244 ∷ 245 ∷ 246 ∷ 247 ∷ 248 ∷ 249 ∷ 250 ∷ 251 ∷ 252 ∷ 253 ∷ 254 ∷ 255 ∷ []) } ∷ []))
unfolding need_of sent_of ones
last_block_written_blocks = refl

last_block_written_reply_1 : reply_of (array_after last_block_written (reverse last_block_written_events)) (command 1) ≡ Some (good ([]))
unfolding need_of sent_of ones
last_block_written_reply_1 = refl

-- ---- mixed_tags

abbrev mixed_tags : ScenarioValue
mixed_tags = record {
  version = 1;
  hosts = record { dev = 7; latency = 0; most = 6; retries = 2; period = 0; offset = 0; lag = 0; offers = true } ∷ [];
  targets = record { dev = 0; latency = 0; retries = 2; disc = policies.Command; pick = picks.First; seek = 1000000; period = 0; offset = 0; begins = false } ∷ [];
  units = record { target = 0; unit = 0; blocks = 1; size = 16; depth = 6 } ∷ [];
  fills = [];
  tapes = [];
  loads = [];
  commands = record { host = 7; target = 0; unit = 0; at = 0; tag = tags.Simple 0; cdb = (0 ∷ 0 ∷ 0 ∷ 0 ∷ 0 ∷ 0 ∷ []); payload = payloads.Nothing } ∷ record { host = 7; target = 0; unit = 0; at = 0; tag = tags.Simple 1; cdb = (0 ∷ 0 ∷ 0 ∷ 0 ∷ 0 ∷ 0 ∷ []); payload = payloads.Nothing } ∷ record { host = 7; target = 0; unit = 0; at = 0; tag = tags.Head 2; cdb = (0 ∷ 0 ∷ 0 ∷ 0 ∷ 0 ∷ 0 ∷ []); payload = payloads.Nothing } ∷ record { host = 7; target = 0; unit = 0; at = 0; tag = tags.Head 3; cdb = (0 ∷ 0 ∷ 0 ∷ 0 ∷ 0 ∷ 0 ∷ []); payload = payloads.Nothing } ∷ record { host = 7; target = 0; unit = 0; at = 0; tag = tags.Simple 4; cdb = (0 ∷ 0 ∷ 0 ∷ 0 ∷ 0 ∷ 0 ∷ []); payload = payloads.Nothing } ∷ record { host = 7; target = 0; unit = 0; at = 0; tag = tags.Ordered 5; cdb = (0 ∷ 0 ∷ 0 ∷ 0 ∷ 0 ∷ 0 ∷ []); payload = payloads.Nothing } ∷ [];
  aborts = [];
  resets = [];
  faults = [];
}

abbrev mixed_tags_events : List Event
mixed_tags_events = events.Accept (command 1) ∷ events.Accept (command 2) ∷ events.Accept (command 3) ∷ events.Accept (command 4) ∷ events.Accept (command 5) ∷ events.Accept (command 6) ∷ events.Run (command 1) ∷ events.End (command 1) 0 ∷ events.Run (command 4) ∷ events.End (command 4) 0 ∷ events.Run (command 3) ∷ events.End (command 3) 0 ∷ events.Run (command 2) ∷ events.End (command 2) 0 ∷ events.Run (command 5) ∷ events.End (command 5) 0 ∷ events.Run (command 6) ∷ events.End (command 6) 0 ∷ []

mixed_tags_blocks : printed (disks_of (array_after mixed_tags (reverse mixed_tags_events))) ≡ printed (started mixed_tags.units ([]))
unfolding need_of sent_of ones
mixed_tags_blocks = refl

mixed_tags_reply_1 : reply_of (array_after mixed_tags (reverse mixed_tags_events)) (command 1) ≡ Some (good ([]))
unfolding need_of sent_of ones
mixed_tags_reply_1 = refl

mixed_tags_reply_2 : reply_of (array_after mixed_tags (reverse mixed_tags_events)) (command 2) ≡ Some (good ([]))
unfolding need_of sent_of ones
mixed_tags_reply_2 = refl

mixed_tags_reply_3 : reply_of (array_after mixed_tags (reverse mixed_tags_events)) (command 3) ≡ Some (good ([]))
unfolding need_of sent_of ones
mixed_tags_reply_3 = refl

mixed_tags_reply_4 : reply_of (array_after mixed_tags (reverse mixed_tags_events)) (command 4) ≡ Some (good ([]))
unfolding need_of sent_of ones
mixed_tags_reply_4 = refl

mixed_tags_reply_5 : reply_of (array_after mixed_tags (reverse mixed_tags_events)) (command 5) ≡ Some (good ([]))
unfolding need_of sent_of ones
mixed_tags_reply_5 = refl

mixed_tags_reply_6 : reply_of (array_after mixed_tags (reverse mixed_tags_events)) (command 6) ≡ Some (good ([]))
unfolding need_of sent_of ones
mixed_tags_reply_6 = refl

-- ---- negotiation

abbrev negotiation : ScenarioValue
negotiation = record {
  version = 1;
  hosts = record { dev = 7; latency = 0; most = 1; retries = 2; period = 50; offset = 8; lag = 0; offers = true } ∷ [];
  targets = record { dev = 0; latency = 0; retries = 2; disc = policies.Never; pick = picks.First; seek = 0; period = 50; offset = 8; begins = false } ∷ [];
  units = record { target = 0; unit = 0; blocks = 1; size = 16; depth = 1 } ∷ [];
  fills = record { target = 0; unit = 0; lba = 0; bytes = (0 ∷ 1 ∷ 2 ∷ 3 ∷ 4 ∷ 5 ∷ 6 ∷ 7 ∷ 8 ∷ 9 ∷ 10 ∷ 11 ∷ 12 ∷ 13 ∷ 14 ∷ 15 ∷ []) } ∷ [];
  tapes = [];
  loads = [];
  commands = record { host = 7; target = 0; unit = 0; at = 0; tag = tags.Untagged; cdb = (8 ∷ 0 ∷ 0 ∷ 0 ∷ 1 ∷ 0 ∷ []); payload = payloads.Nothing } ∷ [];
  aborts = [];
  resets = [];
  faults = record { at = 7010; bit = 0 } ∷ [];
}

abbrev negotiation_events : List Event
negotiation_events = events.Accept (command 1) ∷ events.Run (command 1) ∷ events.End (command 1) 0 ∷ []

negotiation_blocks : printed (disks_of (array_after negotiation (reverse negotiation_events))) ≡ printed (started negotiation.units (record { target = 0; unit = 0; lba = 0; bytes = (0 ∷ 1 ∷ 2 ∷ 3 ∷ 4 ∷ 5 ∷ 6 ∷ 7 ∷ 8 ∷ 9 ∷ 10 ∷ 11 ∷ 12 ∷ 13 ∷ 14 ∷ 15 ∷ []) } ∷ []))
unfolding need_of sent_of ones
negotiation_blocks = refl

negotiation_reply_1 : reply_of (array_after negotiation (reverse negotiation_events)) (command 1) ≡ Some (good (0 ∷ 1 ∷ 2 ∷ 3 ∷ 4 ∷ 5 ∷ 6 ∷ 7 ∷ 8 ∷ 9 ∷ 10 ∷ 11 ∷ 12 ∷ 13 ∷ 14 ∷ 15 ∷ []))
unfolding need_of sent_of ones
negotiation_reply_1 = refl

-- ---- order

abbrev order : ScenarioValue
order = record {
  version = 1;
  hosts = record { dev = 7; latency = 0; most = 8; retries = 2; period = 0; offset = 0; lag = 0; offers = true } ∷ [];
  targets = record { dev = 0; latency = 0; retries = 2; disc = policies.Command; pick = picks.Last; seek = 100000; period = 0; offset = 0; begins = false } ∷ [];
  units = record { target = 0; unit = 0; blocks = 4; size = 16; depth = 8 } ∷ [];
  fills = record { target = 0; unit = 0; lba = 0; bytes = (0 ∷ 1 ∷ 2 ∷ 3 ∷ 4 ∷ 5 ∷ 6 ∷ 7 ∷ 8 ∷ 9 ∷ 10 ∷ 11 ∷ 12 ∷ 13 ∷ 14 ∷ 15 ∷ []) } ∷ [];
  tapes = [];
  loads = [];
  commands = record { host = 7; target = 0; unit = 0; at = 0; tag = tags.Simple 1; cdb = (10 ∷ 0 ∷ 0 ∷ 1 ∷ 1 ∷ 0 ∷ []); payload = payloads.From 16 } ∷ record { host = 7; target = 0; unit = 0; at = 0; tag = tags.Simple 2; cdb = (10 ∷ 0 ∷ 0 ∷ 2 ∷ 1 ∷ 0 ∷ []); payload = payloads.From 32 } ∷ record { host = 7; target = 0; unit = 0; at = 0; tag = tags.Ordered 3; cdb = (10 ∷ 0 ∷ 0 ∷ 1 ∷ 1 ∷ 0 ∷ []); payload = payloads.From 48 } ∷ record { host = 7; target = 0; unit = 0; at = 0; tag = tags.Simple 4; cdb = (8 ∷ 0 ∷ 0 ∷ 3 ∷ 1 ∷ 0 ∷ []); payload = payloads.Nothing } ∷ [];
  aborts = [];
  resets = [];
  faults = [];
}

abbrev order_events : List Event
order_events = events.Accept (command 1) ∷ events.Accept (command 2) ∷ events.Accept (command 3) ∷ events.Accept (command 4) ∷ events.Run (command 1) ∷ events.End (command 1) 0 ∷ events.Run (command 2) ∷ events.End (command 2) 0 ∷ events.Run (command 3) ∷ events.End (command 3) 0 ∷ events.Run (command 4) ∷ events.End (command 4) 0 ∷ []

order_blocks : printed (disks_of (array_after order (reverse order_events))) ≡ printed (started order.units (record { target = 0; unit = 0; lba = 0; bytes = (0 ∷ 1 ∷ 2 ∷ 3 ∷ 4 ∷ 5 ∷ 6 ∷ 7 ∷ 8 ∷ 9 ∷ 10 ∷ 11 ∷ 12 ∷ 13 ∷ 14 ∷ 15 ∷ []) } ∷ record { target = 0; unit = 0; lba = 1; bytes = (48 ∷ 49 ∷ 50 ∷ 51 ∷ 52 ∷ 53 ∷ 54 ∷ 55 ∷ 56 ∷ 57 ∷ 58 ∷ 59 ∷ 60 ∷ 61 ∷ 62 ∷ 63 ∷ []) } ∷ record { target = 0; unit = 0; lba = 2; bytes = (32 ∷ 33 ∷ 34 ∷ 35 ∷ 36 ∷ 37 ∷ 38 ∷ 39 ∷ 40 ∷ 41 ∷ 42 ∷ 43 ∷ 44 ∷ 45 ∷ 46 ∷ 47 ∷ []) } ∷ []))
unfolding need_of sent_of ones
order_blocks = refl

order_reply_1 : reply_of (array_after order (reverse order_events)) (command 1) ≡ Some (good ([]))
unfolding need_of sent_of ones
order_reply_1 = refl

order_reply_2 : reply_of (array_after order (reverse order_events)) (command 2) ≡ Some (good ([]))
unfolding need_of sent_of ones
order_reply_2 = refl

order_reply_3 : reply_of (array_after order (reverse order_events)) (command 3) ≡ Some (good ([]))
unfolding need_of sent_of ones
order_reply_3 = refl

order_reply_4 : reply_of (array_after order (reverse order_events)) (command 4) ≡ Some (good (0 ∷ 0 ∷ 0 ∷ 0 ∷ 0 ∷ 0 ∷ 0 ∷ 0 ∷ 0 ∷ 0 ∷ 0 ∷ 0 ∷ 0 ∷ 0 ∷ 0 ∷ 0 ∷ []))
unfolding need_of sent_of ones
order_reply_4 = refl

-- ---- queue

abbrev queue : ScenarioValue
queue = record {
  version = 1;
  hosts = record { dev = 6; latency = 0; most = 8; retries = 2; period = 0; offset = 0; lag = 0; offers = true } ∷ record { dev = 7; latency = 0; most = 8; retries = 2; period = 0; offset = 0; lag = 0; offers = true } ∷ [];
  targets = record { dev = 0; latency = 0; retries = 2; disc = policies.Command; pick = picks.First; seek = 1000000; period = 0; offset = 0; begins = false } ∷ [];
  units = record { target = 0; unit = 0; blocks = 2; size = 16; depth = 8 } ∷ [];
  fills = [];
  tapes = [];
  loads = [];
  commands = record { host = 7; target = 0; unit = 0; at = 0; tag = tags.Simple 1; cdb = (10 ∷ 0 ∷ 0 ∷ 1 ∷ 1 ∷ 0 ∷ []); payload = payloads.From 16 } ∷ record { host = 6; target = 0; unit = 0; at = 0; tag = tags.Simple 2; cdb = (10 ∷ 0 ∷ 0 ∷ 1 ∷ 1 ∷ 0 ∷ []); payload = payloads.From 32 } ∷ record { host = 7; target = 0; unit = 0; at = 100000; tag = tags.Simple 3; cdb = (10 ∷ 0 ∷ 0 ∷ 0 ∷ 1 ∷ 0 ∷ []); payload = payloads.From 48 } ∷ record { host = 6; target = 0; unit = 0; at = 100000; tag = tags.Simple 4; cdb = (18 ∷ 0 ∷ 0 ∷ 0 ∷ 36 ∷ 0 ∷ []); payload = payloads.Nothing } ∷ record { host = 6; target = 0; unit = 0; at = 2000000; tag = tags.Simple 5; cdb = (10 ∷ 0 ∷ 0 ∷ 0 ∷ 1 ∷ 0 ∷ []); payload = payloads.From 64 } ∷ record { host = 6; target = 0; unit = 0; at = 3000000; tag = tags.Simple 6; cdb = (0 ∷ 0 ∷ 0 ∷ 0 ∷ 0 ∷ 0 ∷ []); payload = payloads.Nothing } ∷ [];
  aborts = record { host = 7; target = 0; unit = 0; at = 50000; what = aborts.WholeQueue } ∷ [];
  resets = [];
  faults = [];
}

abbrev queue_events : List Event
queue_events = events.Accept (command 1) ∷ events.Accept (command 2) ∷ events.Aborted 7 0 0 aborts.WholeQueue ∷ events.Accept (command 3) ∷ events.Accept (command 4) ∷ events.Run (command 3) ∷ events.End (command 3) 0 ∷ events.Accept (command 5) ∷ events.Run (command 4) ∷ events.End (command 4) 0 ∷ events.Accept (command 6) ∷ events.Run (command 5) ∷ events.End (command 5) 2 ∷ events.Accept (sense 5) ∷ events.Run (sense 5) ∷ events.End (sense 5) 0 ∷ events.Run (command 6) ∷ events.End (command 6) 0 ∷ []

queue_blocks : printed (disks_of (array_after queue (reverse queue_events))) ≡ printed (started queue.units (record { target = 0; unit = 0; lba = 0; bytes = (48 ∷ 49 ∷ 50 ∷ 51 ∷ 52 ∷ 53 ∷ 54 ∷ 55 ∷ 56 ∷ 57 ∷ 58 ∷ 59 ∷ 60 ∷ 61 ∷ 62 ∷ 63 ∷ []) } ∷ []))
unfolding need_of sent_of ones
queue_blocks = refl

queue_reply_1 : reply_of (array_after queue (reverse queue_events)) (command 3) ≡ Some (good ([]))
unfolding need_of sent_of ones
queue_reply_1 = refl

queue_reply_2 : reply_of (array_after queue (reverse queue_events)) (command 4) ≡ Some (good (0 ∷ 0 ∷ 2 ∷ 2 ∷ 31 ∷ 0 ∷ 0 ∷ 18 ∷ 66 ∷ 85 ∷ 83 ∷ 77 ∷ 79 ∷ 68 ∷ 69 ∷ 76 ∷ 83 ∷ 73 ∷ 77 ∷ 85 ∷ 76 ∷ 65 ∷ 84 ∷ 69 ∷ 68 ∷ 32 ∷ 68 ∷ 73 ∷ 83 ∷ 75 ∷ 32 ∷ 32 ∷ 48 ∷ 48 ∷ 48 ∷ 49 ∷ []))
unfolding need_of sent_of ones
queue_reply_2 = refl

queue_reply_3 : reply_of (array_after queue (reverse queue_events)) (command 5) ≡ Some (check_condition (sense_of 6 47 0))
unfolding need_of sent_of ones
queue_reply_3 = refl

queue_reply_4 : reply_of (array_after queue (reverse queue_events)) (sense 5) ≡ Some (good (112 ∷ 0 ∷ 6 ∷ 0 ∷ 0 ∷ 0 ∷ 0 ∷ 10 ∷ 0 ∷ 0 ∷ 0 ∷ 0 ∷ 47 ∷ 0 ∷ 0 ∷ 0 ∷ 0 ∷ 0 ∷ []))
unfolding need_of sent_of ones
queue_reply_4 = refl

queue_reply_5 : reply_of (array_after queue (reverse queue_events)) (command 6) ≡ Some (good ([]))
unfolding need_of sent_of ones
queue_reply_5 = refl

-- ---- range_past_the_last

abbrev range_past_the_last : ScenarioValue
range_past_the_last = record {
  version = 1;
  hosts = record { dev = 7; latency = 0; most = 1; retries = 2; period = 0; offset = 0; lag = 0; offers = true } ∷ [];
  targets = record { dev = 0; latency = 0; retries = 2; disc = policies.Never; pick = picks.First; seek = 0; period = 0; offset = 0; begins = false } ∷ [];
  units = record { target = 0; unit = 0; blocks = 4294967296; size = 512; depth = 1 } ∷ [];
  fills = [];
  tapes = [];
  loads = [];
  commands = record { host = 7; target = 0; unit = 0; at = 0; tag = tags.Untagged; cdb = (40 ∷ 0 ∷ 255 ∷ 255 ∷ 255 ∷ 255 ∷ 0 ∷ 0 ∷ 2 ∷ 0 ∷ []); payload = payloads.Nothing } ∷ [];
  aborts = [];
  resets = [];
  faults = [];
}

abbrev range_past_the_last_events : List Event
range_past_the_last_events = events.Accept (command 1) ∷ events.Run (command 1) ∷ events.End (command 1) 2 ∷ events.Accept (sense 1) ∷ events.Run (sense 1) ∷ events.End (sense 1) 0 ∷ []

range_past_the_last_blocks : printed (disks_of (array_after range_past_the_last (reverse range_past_the_last_events))) ≡ printed (started range_past_the_last.units ([]))
unfolding need_of sent_of ones
range_past_the_last_blocks = refl

range_past_the_last_reply_1 : reply_of (array_after range_past_the_last (reverse range_past_the_last_events)) (command 1) ≡ Some (check_condition (sense_of 5 33 0))
unfolding need_of sent_of ones
range_past_the_last_reply_1 = refl

range_past_the_last_reply_2 : reply_of (array_after range_past_the_last (reverse range_past_the_last_events)) (sense 1) ≡ Some (good (112 ∷ 0 ∷ 5 ∷ 0 ∷ 0 ∷ 0 ∷ 0 ∷ 10 ∷ 0 ∷ 0 ∷ 0 ∷ 0 ∷ 33 ∷ 0 ∷ 0 ∷ 0 ∷ 0 ∷ 0 ∷ []))
unfolding need_of sent_of ones
range_past_the_last_reply_2 = refl

-- ---- read_whole_after_a_part

abbrev read_whole_after_a_part : ScenarioValue
read_whole_after_a_part = record {
  version = 1;
  hosts = record { dev = 7; latency = 0; most = 1; retries = 2; period = 0; offset = 0; lag = 0; offers = true } ∷ [];
  targets = record { dev = 0; latency = 0; retries = 2; disc = policies.NoSave 1; pick = picks.First; seek = 0; period = 0; offset = 0; begins = false } ∷ [];
  units = record { target = 0; unit = 0; blocks = 2; size = 16; depth = 1 } ∷ [];
  fills = [];
  tapes = [];
  loads = [];
  commands = record { host = 7; target = 0; unit = 0; at = 0; tag = tags.Untagged; cdb = (10 ∷ 0 ∷ 0 ∷ 0 ∷ 2 ∷ 0 ∷ []); payload = payloads.From 0 } ∷ [];
  aborts = [];
  resets = [];
  faults = [];
}

abbrev read_whole_after_a_part_events : List Event
read_whole_after_a_part_events = events.Accept (command 1) ∷ events.Run (command 1) ∷ events.End (command 1) 0 ∷ []

read_whole_after_a_part_blocks : printed (disks_of (array_after read_whole_after_a_part (reverse read_whole_after_a_part_events))) ≡ printed (started read_whole_after_a_part.units (record { target = 0; unit = 0; lba = 0; bytes = (0 ∷ 1 ∷ 2 ∷ 3 ∷ 4 ∷ 5 ∷ 6 ∷ 7 ∷ 8 ∷ 9 ∷ 10 ∷ 11 ∷ 12 ∷ 13 ∷ 14 ∷ 15 ∷ []) } ∷ record { target = 0; unit = 0; lba = 1; bytes = (16 ∷ 17 ∷ 18 ∷ 19 ∷ 20 ∷ 21 ∷ 22 ∷ 23 ∷ 24 ∷ 25 ∷ 26 ∷ 27 ∷ 28 ∷ 29 ∷ 30 ∷ 31 ∷ []) } ∷ []))
unfolding need_of sent_of ones
read_whole_after_a_part_blocks = refl

read_whole_after_a_part_reply_1 : reply_of (array_after read_whole_after_a_part (reverse read_whole_after_a_part_events)) (command 1) ≡ Some (good ([]))
unfolding need_of sent_of ones
read_whole_after_a_part_reply_1 = refl

-- ---- refusals

abbrev refusals : ScenarioValue
refusals = record {
  version = 1;
  hosts = record { dev = 6; latency = 100; most = 8; retries = 5; period = 0; offset = 0; lag = 0; offers = true } ∷ record { dev = 7; latency = 0; most = 1; retries = 0; period = 0; offset = 0; lag = 0; offers = true } ∷ record { dev = 4; latency = 0; most = 4; retries = 0; period = 0; offset = 0; lag = 500; offers = true } ∷ [];
  targets = record { dev = 1; latency = 100; retries = 16; disc = policies.NoSave 1; pick = picks.Last; seek = 3000; period = 0; offset = 0; begins = false } ∷ [];
  units = record { target = 1; unit = 4; blocks = 1; size = 16; depth = 1 } ∷ [];
  fills = [];
  tapes = [];
  loads = [];
  commands = record { host = 7; target = 1; unit = 4; at = 0; tag = tags.Ordered 255; cdb = (3 ∷ 2 ∷ 0 ∷ 0 ∷ 18 ∷ 0 ∷ []); payload = payloads.Nothing } ∷ record { host = 6; target = 1; unit = 4; at = 0; tag = tags.Simple 1; cdb = (8 ∷ 0 ∷ 0 ∷ 0 ∷ 1 ∷ 0 ∷ []); payload = payloads.Nothing } ∷ record { host = 4; target = 1; unit = 4; at = 0; tag = tags.Simple 2; cdb = (10 ∷ 0 ∷ 0 ∷ 0 ∷ 1 ∷ 0 ∷ []); payload = payloads.From 47 } ∷ record { host = 6; target = 1; unit = 4; at = 0; tag = tags.Head 0; cdb = (0 ∷ 0 ∷ 0 ∷ 0 ∷ 0 ∷ 0 ∷ []); payload = payloads.Nothing } ∷ record { host = 7; target = 1; unit = 4; at = 0; tag = tags.Simple 4; cdb = (18 ∷ 2 ∷ 0 ∷ 0 ∷ 36 ∷ 0 ∷ []); payload = payloads.Nothing } ∷ [];
  aborts = [];
  resets = [];
  faults = [];
}

abbrev refusals_events : List Event
refusals_events = events.Accept (command 1) ∷ events.Refuse (command 2) ∷ events.End (command 2) 40 ∷ events.Refuse (command 4) ∷ events.End (command 4) 40 ∷ events.Refuse (command 3) ∷ events.End (command 3) 40 ∷ events.Run (command 1) ∷ events.End (command 1) 2 ∷ events.Accept (sense 1) ∷ events.Run (sense 1) ∷ events.End (sense 1) 0 ∷ events.Accept (command 5) ∷ events.Run (command 5) ∷ events.End (command 5) 2 ∷ events.Accept (sense 5) ∷ events.Run (sense 5) ∷ events.End (sense 5) 0 ∷ []

refusals_blocks : printed (disks_of (array_after refusals (reverse refusals_events))) ≡ printed (started refusals.units ([]))
unfolding need_of sent_of ones
refusals_blocks = refl

refusals_reply_1 : reply_of (array_after refusals (reverse refusals_events)) (command 1) ≡ Some (check_condition (sense_of 5 36 0))
unfolding need_of sent_of ones
refusals_reply_1 = refl

refusals_reply_2 : reply_of (array_after refusals (reverse refusals_events)) (sense 1) ≡ Some (good (112 ∷ 0 ∷ 5 ∷ 0 ∷ 0 ∷ 0 ∷ 0 ∷ 10 ∷ 0 ∷ 0 ∷ 0 ∷ 0 ∷ 36 ∷ 0 ∷ 0 ∷ 0 ∷ 0 ∷ 0 ∷ []))
unfolding need_of sent_of ones
refusals_reply_2 = refl

refusals_reply_3 : reply_of (array_after refusals (reverse refusals_events)) (command 2) ≡ Some (queue_full)
unfolding need_of sent_of ones
refusals_reply_3 = refl

refusals_reply_4 : reply_of (array_after refusals (reverse refusals_events)) (command 3) ≡ Some (queue_full)
unfolding need_of sent_of ones
refusals_reply_4 = refl

refusals_reply_5 : reply_of (array_after refusals (reverse refusals_events)) (command 4) ≡ Some (queue_full)
unfolding need_of sent_of ones
refusals_reply_5 = refl

refusals_reply_6 : reply_of (array_after refusals (reverse refusals_events)) (command 5) ≡ Some (check_condition (sense_of 5 36 0))
unfolding need_of sent_of ones
refusals_reply_6 = refl

refusals_reply_7 : reply_of (array_after refusals (reverse refusals_events)) (sense 5) ≡ Some (good (112 ∷ 0 ∷ 5 ∷ 0 ∷ 0 ∷ 0 ∷ 0 ∷ 10 ∷ 0 ∷ 0 ∷ 0 ∷ 0 ∷ 36 ∷ 0 ∷ 0 ∷ 0 ∷ 0 ∷ 0 ∷ []))
unfolding need_of sent_of ones
refusals_reply_7 = refl

-- the queue is full, so it may not enter
refusals_full_1 : array_after refusals (reverse (events.Accept (command 1) ∷ events.Accept (command 2) ∷ [])) ≡ None
unfolding need_of sent_of ones
refusals_full_1 = refl

-- the queue is full, so it may not enter
refusals_full_3 : array_after refusals (reverse (events.Accept (command 1) ∷ events.Refuse (command 2) ∷ events.End (command 2) 40 ∷ events.Accept (command 4) ∷ [])) ≡ None
unfolding need_of sent_of ones
refusals_full_3 = refl

-- the queue is full, so it may not enter
refusals_full_5 : array_after refusals (reverse (events.Accept (command 1) ∷ events.Refuse (command 2) ∷ events.End (command 2) 40 ∷ events.Refuse (command 4) ∷ events.End (command 4) 40 ∷ events.Accept (command 3) ∷ [])) ≡ None
unfolding need_of sent_of ones
refusals_full_5 = refl

-- ---- reset

abbrev reset : ScenarioValue
reset = record {
  version = 1;
  hosts = record { dev = 7; latency = 0; most = 8; retries = 2; period = 0; offset = 0; lag = 0; offers = true } ∷ [];
  targets = record { dev = 0; latency = 0; retries = 2; disc = policies.Command; pick = picks.First; seek = 0; period = 0; offset = 0; begins = false } ∷ [];
  units = record { target = 0; unit = 0; blocks = 2; size = 16; depth = 2 } ∷ [];
  fills = [];
  tapes = [];
  loads = [];
  commands = record { host = 7; target = 0; unit = 0; at = 50000; tag = tags.Untagged; cdb = (10 ∷ 0 ∷ 0 ∷ 1 ∷ 1 ∷ 0 ∷ []); payload = payloads.From 16 } ∷ record { host = 7; target = 0; unit = 0; at = 90000; tag = tags.Untagged; cdb = (10 ∷ 0 ∷ 0 ∷ 1 ∷ 1 ∷ 0 ∷ []); payload = payloads.From 32 } ∷ record { host = 7; target = 0; unit = 0; at = 130000; tag = tags.Untagged; cdb = (37 ∷ 0 ∷ 0 ∷ 0 ∷ 0 ∷ 0 ∷ 0 ∷ 0 ∷ 0 ∷ 0 ∷ []); payload = payloads.Nothing } ∷ [];
  aborts = [];
  resets = record { dev = 7; at = 1000 } ∷ [];
  faults = [];
}

abbrev reset_events : List Event
reset_events = events.Reset 7 ∷ events.Accept (command 1) ∷ events.Run (command 1) ∷ events.End (command 1) 2 ∷ events.Accept (sense 1) ∷ events.Run (sense 1) ∷ events.End (sense 1) 0 ∷ events.Accept (command 2) ∷ events.Run (command 2) ∷ events.End (command 2) 0 ∷ events.Accept (command 3) ∷ events.Run (command 3) ∷ events.End (command 3) 0 ∷ []

reset_blocks : printed (disks_of (array_after reset (reverse reset_events))) ≡ printed (started reset.units (record { target = 0; unit = 0; lba = 1; bytes = (32 ∷ 33 ∷ 34 ∷ 35 ∷ 36 ∷ 37 ∷ 38 ∷ 39 ∷ 40 ∷ 41 ∷ 42 ∷ 43 ∷ 44 ∷ 45 ∷ 46 ∷ 47 ∷ []) } ∷ []))
unfolding need_of sent_of ones
reset_blocks = refl

reset_reply_1 : reply_of (array_after reset (reverse reset_events)) (command 1) ≡ Some (check_condition (sense_of 6 41 0))
unfolding need_of sent_of ones
reset_reply_1 = refl

reset_reply_2 : reply_of (array_after reset (reverse reset_events)) (sense 1) ≡ Some (good (112 ∷ 0 ∷ 6 ∷ 0 ∷ 0 ∷ 0 ∷ 0 ∷ 10 ∷ 0 ∷ 0 ∷ 0 ∷ 0 ∷ 41 ∷ 0 ∷ 0 ∷ 0 ∷ 0 ∷ 0 ∷ []))
unfolding need_of sent_of ones
reset_reply_2 = refl

reset_reply_3 : reply_of (array_after reset (reverse reset_events)) (command 2) ≡ Some (good ([]))
unfolding need_of sent_of ones
reset_reply_3 = refl

reset_reply_4 : reply_of (array_after reset (reverse reset_events)) (command 3) ≡ Some (good (0 ∷ 0 ∷ 0 ∷ 1 ∷ 0 ∷ 0 ∷ 0 ∷ 16 ∷ []))
unfolding need_of sent_of ones
reset_reply_4 = refl

-- ---- resets_with_queues

abbrev resets_with_queues : ScenarioValue
resets_with_queues = record {
  version = 1;
  hosts = record { dev = 2; latency = 37; most = 1; retries = 0; period = 0; offset = 5; lag = 0; offers = true } ∷ record { dev = 7; latency = 100; most = 8; retries = 1; period = 0; offset = 0; lag = 0; offers = true } ∷ record { dev = 4; latency = 0; most = 2; retries = 1; period = 0; offset = 0; lag = 100; offers = true } ∷ record { dev = 5; latency = 0; most = 4; retries = 5; period = 0; offset = 5; lag = 100; offers = true } ∷ [];
  targets = record { dev = 1; latency = 100; retries = 5; disc = policies.Burst 3; pick = picks.Last; seek = 100000; period = 0; offset = 0; begins = false } ∷ [];
  units = record { target = 1; unit = 3; blocks = 2; size = 32; depth = 4 } ∷ record { target = 1; unit = 6; blocks = 8; size = 32; depth = 1 } ∷ [];
  fills = record { target = 1; unit = 3; lba = 0; bytes = (0 ∷ 95 ∷ 226 ∷ 188 ∷ 68 ∷ 113 ∷ 249 ∷ 0 ∷ 0 ∷ 139 ∷ 0 ∷ 163 ∷ 186 ∷ 247 ∷ 0 ∷ 0 ∷ 106 ∷ 11 ∷ 92 ∷ 0 ∷ 0 ∷ 253 ∷ 153 ∷ 90 ∷ 184 ∷ 0 ∷ 0 ∷ 0 ∷ 18 ∷ 0 ∷ 130 ∷ 120 ∷ []) } ∷ record { target = 1; unit = 6; lba = 0; bytes = (114 ∷ 0 ∷ 167 ∷ 0 ∷ 86 ∷ 0 ∷ 130 ∷ 101 ∷ 63 ∷ 220 ∷ 0 ∷ 204 ∷ 181 ∷ 36 ∷ 0 ∷ 0 ∷ 0 ∷ 118 ∷ 186 ∷ 38 ∷ 0 ∷ 106 ∷ 167 ∷ 154 ∷ 15 ∷ 95 ∷ 177 ∷ 78 ∷ 31 ∷ 126 ∷ 49 ∷ 0 ∷ []) } ∷ record { target = 1; unit = 6; lba = 7; bytes = (0 ∷ 231 ∷ 0 ∷ 0 ∷ 0 ∷ 0 ∷ 127 ∷ 190 ∷ 0 ∷ 225 ∷ 29 ∷ 125 ∷ 0 ∷ 245 ∷ 87 ∷ 151 ∷ 0 ∷ 0 ∷ 23 ∷ 187 ∷ 112 ∷ 0 ∷ 4 ∷ 138 ∷ 0 ∷ 221 ∷ 167 ∷ 253 ∷ 99 ∷ 67 ∷ 229 ∷ 144 ∷ []) } ∷ [];
  tapes = [];
  loads = [];
  commands = record { host = 4; target = 1; unit = 6; at = 0; tag = tags.Untagged; cdb = (8 ∷ 0 ∷ 0 ∷ 4 ∷ 2 ∷ 0 ∷ []); payload = payloads.Nothing } ∷ record { host = 7; target = 1; unit = 6; at = 0; tag = tags.Head 1; cdb = (10 ∷ 0 ∷ 0 ∷ 4 ∷ 1 ∷ 0 ∷ []); payload = payloads.From 138 } ∷ record { host = 5; target = 1; unit = 6; at = 0; tag = tags.Simple 2; cdb = (0 ∷ 0 ∷ 0 ∷ 0 ∷ 0 ∷ 0 ∷ []); payload = payloads.Nothing } ∷ record { host = 7; target = 1; unit = 6; at = 0; tag = tags.Untagged; cdb = (10 ∷ 0 ∷ 0 ∷ 5 ∷ 2 ∷ 0 ∷ []); payload = payloads.From 137 } ∷ record { host = 7; target = 1; unit = 3; at = 0; tag = tags.Simple 1; cdb = (8 ∷ 0 ∷ 0 ∷ 1 ∷ 1 ∷ 0 ∷ []); payload = payloads.Nothing } ∷ [];
  aborts = record { host = 5; target = 1; unit = 3; at = 301040; what = aborts.All } ∷ record { host = 7; target = 1; unit = 6; at = 120728; what = aborts.Device } ∷ record { host = 5; target = 1; unit = 6; at = 314639; what = aborts.WholeQueue } ∷ [];
  resets = record { dev = 5; at = 120745 } ∷ [];
  faults = record { at = 172497; bit = 6 } ∷ record { at = 213944; bit = 0 } ∷ record { at = 279541; bit = 8 } ∷ [];
}

abbrev resets_with_queues_events : List Event
resets_with_queues_events = events.Accept (command 2) ∷ events.Refuse (command 3) ∷ events.End (command 3) 40 ∷ events.Refuse (command 1) ∷ events.End (command 1) 40 ∷ events.Reset 5 ∷ events.Aborted 7 1 6 aborts.Device ∷ events.Accept (command 4) ∷ events.Accept (command 5) ∷ events.Aborted 5 1 3 aborts.All ∷ events.Aborted 5 1 6 aborts.WholeQueue ∷ events.Run (command 5) ∷ events.End (command 5) 2 ∷ events.Accept (sense 5) ∷ events.Run (sense 5) ∷ events.End (sense 5) 0 ∷ []

resets_with_queues_blocks : printed (disks_of (array_after resets_with_queues (reverse resets_with_queues_events))) ≡ printed (started resets_with_queues.units (record { target = 1; unit = 3; lba = 0; bytes = (0 ∷ 95 ∷ 226 ∷ 188 ∷ 68 ∷ 113 ∷ 249 ∷ 0 ∷ 0 ∷ 139 ∷ 0 ∷ 163 ∷ 186 ∷ 247 ∷ 0 ∷ 0 ∷ 106 ∷ 11 ∷ 92 ∷ 0 ∷ 0 ∷ 253 ∷ 153 ∷ 90 ∷ 184 ∷ 0 ∷ 0 ∷ 0 ∷ 18 ∷ 0 ∷ 130 ∷ 120 ∷ []) } ∷ record { target = 1; unit = 6; lba = 0; bytes = (114 ∷ 0 ∷ 167 ∷ 0 ∷ 86 ∷ 0 ∷ 130 ∷ 101 ∷ 63 ∷ 220 ∷ 0 ∷ 204 ∷ 181 ∷ 36 ∷ 0 ∷ 0 ∷ 0 ∷ 118 ∷ 186 ∷ 38 ∷ 0 ∷ 106 ∷ 167 ∷ 154 ∷ 15 ∷ 95 ∷ 177 ∷ 78 ∷ 31 ∷ 126 ∷ 49 ∷ 0 ∷ []) } ∷ record { target = 1; unit = 6; lba = 7; bytes = (0 ∷ 231 ∷ 0 ∷ 0 ∷ 0 ∷ 0 ∷ 127 ∷ 190 ∷ 0 ∷ 225 ∷ 29 ∷ 125 ∷ 0 ∷ 245 ∷ 87 ∷ 151 ∷ 0 ∷ 0 ∷ 23 ∷ 187 ∷ 112 ∷ 0 ∷ 4 ∷ 138 ∷ 0 ∷ 221 ∷ 167 ∷ 253 ∷ 99 ∷ 67 ∷ 229 ∷ 144 ∷ []) } ∷ []))
unfolding need_of sent_of ones
resets_with_queues_blocks = refl

resets_with_queues_reply_1 : reply_of (array_after resets_with_queues (reverse resets_with_queues_events)) (command 1) ≡ Some (queue_full)
unfolding need_of sent_of ones
resets_with_queues_reply_1 = refl

resets_with_queues_reply_2 : reply_of (array_after resets_with_queues (reverse resets_with_queues_events)) (command 3) ≡ Some (queue_full)
unfolding need_of sent_of ones
resets_with_queues_reply_2 = refl

resets_with_queues_reply_3 : reply_of (array_after resets_with_queues (reverse resets_with_queues_events)) (command 5) ≡ Some (check_condition (sense_of 6 41 0))
unfolding need_of sent_of ones
resets_with_queues_reply_3 = refl

resets_with_queues_reply_4 : reply_of (array_after resets_with_queues (reverse resets_with_queues_events)) (sense 5) ≡ Some (good (112 ∷ 0 ∷ 6 ∷ 0 ∷ 0 ∷ 0 ∷ 0 ∷ 10 ∷ 0 ∷ 0 ∷ 0 ∷ 0 ∷ 41 ∷ 0 ∷ 0 ∷ 0 ∷ 0 ∷ 0 ∷ []))
unfolding need_of sent_of ones
resets_with_queues_reply_4 = refl

-- the queue is full, so it may not enter
resets_with_queues_full_1 : array_after resets_with_queues (reverse (events.Accept (command 2) ∷ events.Accept (command 3) ∷ [])) ≡ None
unfolding need_of sent_of ones
resets_with_queues_full_1 = refl

-- the queue is full, so it may not enter
resets_with_queues_full_3 : array_after resets_with_queues (reverse (events.Accept (command 2) ∷ events.Refuse (command 3) ∷ events.End (command 3) 40 ∷ events.Accept (command 1) ∷ [])) ≡ None
unfolding need_of sent_of ones
resets_with_queues_full_3 = refl

-- ---- sense_cut

abbrev sense_cut : ScenarioValue
sense_cut = record {
  version = 1;
  hosts = record { dev = 7; latency = 0; most = 1; retries = 0; period = 0; offset = 0; lag = 0; offers = true } ∷ [];
  targets = record { dev = 0; latency = 0; retries = 0; disc = policies.Never; pick = picks.First; seek = 0; period = 0; offset = 0; begins = false } ∷ [];
  units = record { target = 0; unit = 0; blocks = 1; size = 16; depth = 1 } ∷ [];
  fills = [];
  tapes = [];
  loads = [];
  commands = record { host = 7; target = 0; unit = 0; at = 0; tag = tags.Untagged; cdb = (4 ∷ 0 ∷ 0 ∷ 0 ∷ 0 ∷ 0 ∷ []); payload = payloads.Nothing } ∷ [];
  aborts = [];
  resets = record { dev = 7; at = 16745 } ∷ [];
  faults = [];
}

abbrev sense_cut_events : List Event
sense_cut_events = events.Accept (command 1) ∷ events.Run (command 1) ∷ events.End (command 1) 2 ∷ events.Accept (sense 1) ∷ events.Run (sense 1) ∷ events.Reset 7 ∷ []

sense_cut_blocks : printed (disks_of (array_after sense_cut (reverse sense_cut_events))) ≡ printed (started sense_cut.units ([]))
unfolding need_of sent_of ones
sense_cut_blocks = refl

-- ---- senses

abbrev senses : ScenarioValue
senses = record {
  version = 1;
  hosts = record { dev = 7; latency = 0; most = 8; retries = 2; period = 0; offset = 0; lag = 0; offers = true } ∷ [];
  targets = record { dev = 0; latency = 0; retries = 2; disc = policies.Never; pick = picks.First; seek = 0; period = 0; offset = 0; begins = false } ∷ [];
  units = record { target = 0; unit = 0; blocks = 255; size = 16; depth = 1 } ∷ [];
  fills = [];
  tapes = [];
  loads = [];
  commands = record { host = 7; target = 0; unit = 0; at = 0; tag = tags.Untagged; cdb = (8 ∷ 0 ∷ 1 ∷ 255 ∷ 1 ∷ 0 ∷ []); payload = payloads.Nothing } ∷ record { host = 7; target = 0; unit = 0; at = 0; tag = tags.Untagged; cdb = (3 ∷ 0 ∷ 0 ∷ 0 ∷ 18 ∷ 0 ∷ []); payload = payloads.Nothing } ∷ record { host = 7; target = 0; unit = 0; at = 0; tag = tags.Untagged; cdb = (10 ∷ 0 ∷ 0 ∷ 1 ∷ 2 ∷ 0 ∷ []); payload = payloads.From 160 } ∷ record { host = 7; target = 0; unit = 0; at = 0; tag = tags.Untagged; cdb = (40 ∷ 0 ∷ 0 ∷ 0 ∷ 0 ∷ 0 ∷ 0 ∷ 0 ∷ 3 ∷ 0 ∷ []); payload = payloads.Nothing } ∷ record { host = 7; target = 0; unit = 0; at = 0; tag = tags.Untagged; cdb = (11 ∷ 0 ∷ 0 ∷ 0 ∷ 0 ∷ 0 ∷ []); payload = payloads.Nothing } ∷ record { host = 7; target = 0; unit = 0; at = 0; tag = tags.Untagged; cdb = (8 ∷ 0 ∷ 0 ∷ 0 ∷ 0 ∷ 0 ∷ []); payload = payloads.Nothing } ∷ [];
  aborts = [];
  resets = [];
  faults = [];
}

abbrev senses_events : List Event
senses_events = events.Accept (command 1) ∷ events.Run (command 1) ∷ events.End (command 1) 2 ∷ events.Accept (sense 1) ∷ events.Run (sense 1) ∷ events.End (sense 1) 0 ∷ events.Accept (command 2) ∷ events.Run (command 2) ∷ events.End (command 2) 0 ∷ events.Accept (command 3) ∷ events.Run (command 3) ∷ events.End (command 3) 0 ∷ events.Accept (command 4) ∷ events.Run (command 4) ∷ events.End (command 4) 0 ∷ events.Accept (command 5) ∷ events.Run (command 5) ∷ events.End (command 5) 2 ∷ events.Accept (sense 5) ∷ events.Run (sense 5) ∷ events.End (sense 5) 0 ∷ events.Accept (command 6) ∷ events.Run (command 6) ∷ events.End (command 6) 2 ∷ events.Accept (sense 6) ∷ events.Run (sense 6) ∷ events.End (sense 6) 0 ∷ []

senses_blocks : printed (disks_of (array_after senses (reverse senses_events))) ≡ printed (started senses.units (record { target = 0; unit = 0; lba = 1; bytes = (160 ∷ 161 ∷ 162 ∷ 163 ∷ 164 ∷ 165 ∷ 166 ∷ 167 ∷ 168 ∷ 169 ∷ 170 ∷ 171 ∷ 172 ∷ 173 ∷ 174 ∷ 175 ∷ []) } ∷ record { target = 0; unit = 0; lba = 2; bytes = (176 ∷ 177 ∷ 178 ∷ 179 ∷ 180 ∷ 181 ∷ 182 ∷ 183 ∷ 184 ∷ 185 ∷ 186 ∷ 187 ∷ 188 ∷ 189 ∷ 190 ∷ 191 ∷ []) } ∷ []))
unfolding need_of sent_of ones
senses_blocks = refl

senses_reply_1 : reply_of (array_after senses (reverse senses_events)) (command 1) ≡ Some (check_condition (sense_of 5 33 0))
unfolding need_of sent_of ones
senses_reply_1 = refl

senses_reply_2 : reply_of (array_after senses (reverse senses_events)) (sense 1) ≡ Some (good (112 ∷ 0 ∷ 5 ∷ 0 ∷ 0 ∷ 0 ∷ 0 ∷ 10 ∷ 0 ∷ 0 ∷ 0 ∷ 0 ∷ 33 ∷ 0 ∷ 0 ∷ 0 ∷ 0 ∷ 0 ∷ []))
unfolding need_of sent_of ones
senses_reply_2 = refl

senses_reply_3 : reply_of (array_after senses (reverse senses_events)) (command 2) ≡ Some (good (112 ∷ 0 ∷ 0 ∷ 0 ∷ 0 ∷ 0 ∷ 0 ∷ 10 ∷ 0 ∷ 0 ∷ 0 ∷ 0 ∷ 0 ∷ 0 ∷ 0 ∷ 0 ∷ 0 ∷ 0 ∷ []))
unfolding need_of sent_of ones
senses_reply_3 = refl

senses_reply_4 : reply_of (array_after senses (reverse senses_events)) (command 3) ≡ Some (good ([]))
unfolding need_of sent_of ones
senses_reply_4 = refl

senses_reply_5 : reply_of (array_after senses (reverse senses_events)) (command 4) ≡ Some (good (0 ∷ 0 ∷ 0 ∷ 0 ∷ 0 ∷ 0 ∷ 0 ∷ 0 ∷ 0 ∷ 0 ∷ 0 ∷ 0 ∷ 0 ∷ 0 ∷ 0 ∷ 0 ∷ 160 ∷ 161 ∷ 162 ∷ 163 ∷ 164 ∷ 165 ∷ 166 ∷ 167 ∷ 168 ∷ 169 ∷ 170 ∷ 171 ∷ 172 ∷ 173 ∷ 174 ∷ 175 ∷ 176 ∷ 177 ∷ 178 ∷ 179 ∷ 180 ∷ 181 ∷ 182 ∷ 183 ∷ 184 ∷ 185 ∷ 186 ∷ 187 ∷ 188 ∷ 189 ∷ 190 ∷ 191 ∷ []))
unfolding need_of sent_of ones
senses_reply_5 = refl

senses_reply_6 : reply_of (array_after senses (reverse senses_events)) (command 5) ≡ Some (check_condition (sense_of 5 32 0))
unfolding need_of sent_of ones
senses_reply_6 = refl

senses_reply_7 : reply_of (array_after senses (reverse senses_events)) (sense 5) ≡ Some (good (112 ∷ 0 ∷ 5 ∷ 0 ∷ 0 ∷ 0 ∷ 0 ∷ 10 ∷ 0 ∷ 0 ∷ 0 ∷ 0 ∷ 32 ∷ 0 ∷ 0 ∷ 0 ∷ 0 ∷ 0 ∷ []))
unfolding need_of sent_of ones
senses_reply_7 = refl

senses_reply_8 : reply_of (array_after senses (reverse senses_events)) (command 6) ≡ Some (check_condition (sense_of 5 33 0))
unfolding need_of sent_of ones
senses_reply_8 = refl

senses_reply_9 : reply_of (array_after senses (reverse senses_events)) (sense 6) ≡ Some (good (112 ∷ 0 ∷ 5 ∷ 0 ∷ 0 ∷ 0 ∷ 0 ∷ 10 ∷ 0 ∷ 0 ∷ 0 ∷ 0 ∷ 33 ∷ 0 ∷ 0 ∷ 0 ∷ 0 ∷ 0 ∷ []))
unfolding need_of sent_of ones
senses_reply_9 = refl

-- ---- struck_command

abbrev struck_command : ScenarioValue
struck_command = record {
  version = 1;
  hosts = record { dev = 5; latency = 23; most = 1; retries = 2; period = 49; offset = 3; lag = 0; offers = true } ∷ record { dev = 6; latency = 61; most = 1; retries = 0; period = 0; offset = 3; lag = 0; offers = true } ∷ record { dev = 2; latency = 71; most = 2; retries = 5; period = 25; offset = 2; lag = 100; offers = true } ∷ record { dev = 0; latency = 24; most = 2; retries = 5; period = 49; offset = 1; lag = 100; offers = true } ∷ [];
  targets = record { dev = 7; latency = 89; retries = 0; disc = policies.Burst 1; pick = picks.First; seek = 0; period = 80; offset = 1; begins = false } ∷ [];
  units = record { target = 7; unit = 2; blocks = 8; size = 16; depth = 2 } ∷ record { target = 7; unit = 4; blocks = 2; size = 16; depth = 4 } ∷ [];
  fills = record { target = 7; unit = 2; lba = 1; bytes = (200 ∷ 177 ∷ 54 ∷ 81 ∷ 158 ∷ 0 ∷ 0 ∷ 179 ∷ 36 ∷ 78 ∷ 216 ∷ 227 ∷ 192 ∷ 49 ∷ 106 ∷ 0 ∷ []) } ∷ record { target = 7; unit = 2; lba = 2; bytes = (40 ∷ 34 ∷ 194 ∷ 65 ∷ 92 ∷ 0 ∷ 181 ∷ 0 ∷ 56 ∷ 77 ∷ 172 ∷ 0 ∷ 224 ∷ 0 ∷ 162 ∷ 220 ∷ []) } ∷ record { target = 7; unit = 2; lba = 5; bytes = (0 ∷ 0 ∷ 238 ∷ 0 ∷ 0 ∷ 208 ∷ 56 ∷ 0 ∷ 173 ∷ 80 ∷ 126 ∷ 134 ∷ 0 ∷ 232 ∷ 0 ∷ 34 ∷ []) } ∷ record { target = 7; unit = 2; lba = 6; bytes = (250 ∷ 0 ∷ 199 ∷ 72 ∷ 195 ∷ 59 ∷ 0 ∷ 0 ∷ 198 ∷ 0 ∷ 68 ∷ 0 ∷ 40 ∷ 251 ∷ 96 ∷ 98 ∷ []) } ∷ record { target = 7; unit = 4; lba = 0; bytes = (0 ∷ 204 ∷ 0 ∷ 0 ∷ 182 ∷ 0 ∷ 0 ∷ 0 ∷ 227 ∷ 144 ∷ 160 ∷ 0 ∷ 0 ∷ 199 ∷ 0 ∷ 0 ∷ []) } ∷ record { target = 7; unit = 4; lba = 1; bytes = (122 ∷ 226 ∷ 0 ∷ 72 ∷ 79 ∷ 204 ∷ 0 ∷ 136 ∷ 105 ∷ 0 ∷ 0 ∷ 62 ∷ 108 ∷ 133 ∷ 175 ∷ 0 ∷ []) } ∷ [];
  tapes = [];
  loads = [];
  commands = record { host = 6; target = 7; unit = 4; at = 60471; tag = tags.Untagged; cdb = (17 ∷ 0 ∷ 0 ∷ 0 ∷ 0 ∷ 0 ∷ []); payload = payloads.Nothing } ∷ record { host = 2; target = 7; unit = 2; at = 80321; tag = tags.Head 1; cdb = (10 ∷ 0 ∷ 0 ∷ 2 ∷ 2 ∷ 0 ∷ []); payload = payloads.From 27 } ∷ [];
  aborts = [];
  resets = record { dev = 5; at = 111836 } ∷ [];
  faults = record { at = 68609; bit = 2 } ∷ record { at = 143587; bit = 1 } ∷ [];
}

abbrev struck_command_events : List Event
struck_command_events = events.Fail (command 1) 71 ∷ events.End (command 1) 2 ∷ events.Accept (sense 1) ∷ events.Run (sense 1) ∷ events.End (sense 1) 0 ∷ events.Accept (command 2) ∷ events.Reset 5 ∷ []

struck_command_blocks : printed (disks_of (array_after struck_command (reverse struck_command_events))) ≡ printed (started struck_command.units (record { target = 7; unit = 2; lba = 1; bytes = (200 ∷ 177 ∷ 54 ∷ 81 ∷ 158 ∷ 0 ∷ 0 ∷ 179 ∷ 36 ∷ 78 ∷ 216 ∷ 227 ∷ 192 ∷ 49 ∷ 106 ∷ 0 ∷ []) } ∷ record { target = 7; unit = 2; lba = 2; bytes = (40 ∷ 34 ∷ 194 ∷ 65 ∷ 92 ∷ 0 ∷ 181 ∷ 0 ∷ 56 ∷ 77 ∷ 172 ∷ 0 ∷ 224 ∷ 0 ∷ 162 ∷ 220 ∷ []) } ∷ record { target = 7; unit = 2; lba = 5; bytes = (0 ∷ 0 ∷ 238 ∷ 0 ∷ 0 ∷ 208 ∷ 56 ∷ 0 ∷ 173 ∷ 80 ∷ 126 ∷ 134 ∷ 0 ∷ 232 ∷ 0 ∷ 34 ∷ []) } ∷ record { target = 7; unit = 2; lba = 6; bytes = (250 ∷ 0 ∷ 199 ∷ 72 ∷ 195 ∷ 59 ∷ 0 ∷ 0 ∷ 198 ∷ 0 ∷ 68 ∷ 0 ∷ 40 ∷ 251 ∷ 96 ∷ 98 ∷ []) } ∷ record { target = 7; unit = 4; lba = 0; bytes = (0 ∷ 204 ∷ 0 ∷ 0 ∷ 182 ∷ 0 ∷ 0 ∷ 0 ∷ 227 ∷ 144 ∷ 160 ∷ 0 ∷ 0 ∷ 199 ∷ 0 ∷ 0 ∷ []) } ∷ record { target = 7; unit = 4; lba = 1; bytes = (122 ∷ 226 ∷ 0 ∷ 72 ∷ 79 ∷ 204 ∷ 0 ∷ 136 ∷ 105 ∷ 0 ∷ 0 ∷ 62 ∷ 108 ∷ 133 ∷ 175 ∷ 0 ∷ []) } ∷ []))
unfolding need_of sent_of ones
struck_command_blocks = refl

struck_command_reply_1 : reply_of (array_after struck_command (reverse struck_command_events)) (command 1) ≡ Some (check_condition (sense_of 11 71 0))
unfolding need_of sent_of ones
struck_command_reply_1 = refl

struck_command_reply_2 : reply_of (array_after struck_command (reverse struck_command_events)) (sense 1) ≡ Some (good (112 ∷ 0 ∷ 11 ∷ 0 ∷ 0 ∷ 0 ∷ 0 ∷ 10 ∷ 0 ∷ 0 ∷ 0 ∷ 0 ∷ 71 ∷ 0 ∷ 0 ∷ 0 ∷ 0 ∷ 0 ∷ []))
unfolding need_of sent_of ones
struck_command_reply_2 = refl

-- ---- struck_complete

abbrev struck_complete : ScenarioValue
struck_complete = record {
  version = 1;
  hosts = record { dev = 7; latency = 0; most = 1; retries = 2; period = 0; offset = 0; lag = 0; offers = true } ∷ [];
  targets = record { dev = 0; latency = 0; retries = 2; disc = policies.Never; pick = picks.First; seek = 0; period = 0; offset = 0; begins = false } ∷ [];
  units = record { target = 0; unit = 0; blocks = 1; size = 16; depth = 1 } ∷ [];
  fills = record { target = 0; unit = 0; lba = 0; bytes = (0 ∷ 1 ∷ 2 ∷ 3 ∷ 4 ∷ 5 ∷ 6 ∷ 7 ∷ 8 ∷ 9 ∷ 10 ∷ 11 ∷ 12 ∷ 13 ∷ 14 ∷ 15 ∷ []) } ∷ [];
  tapes = [];
  loads = [];
  commands = record { host = 7; target = 0; unit = 0; at = 0; tag = tags.Untagged; cdb = (8 ∷ 0 ∷ 0 ∷ 0 ∷ 1 ∷ 0 ∷ []); payload = payloads.Nothing } ∷ [];
  aborts = [];
  resets = [];
  faults = record { at = 9080; bit = 0 } ∷ [];
}

abbrev struck_complete_events : List Event
struck_complete_events = events.Accept (command 1) ∷ events.Run (command 1) ∷ events.End (command 1) 0 ∷ []

struck_complete_blocks : printed (disks_of (array_after struck_complete (reverse struck_complete_events))) ≡ printed (started struck_complete.units (record { target = 0; unit = 0; lba = 0; bytes = (0 ∷ 1 ∷ 2 ∷ 3 ∷ 4 ∷ 5 ∷ 6 ∷ 7 ∷ 8 ∷ 9 ∷ 10 ∷ 11 ∷ 12 ∷ 13 ∷ 14 ∷ 15 ∷ []) } ∷ []))
unfolding need_of sent_of ones
struck_complete_blocks = refl

struck_complete_reply_1 : reply_of (array_after struck_complete (reverse struck_complete_events)) (command 1) ≡ Some (good (0 ∷ 1 ∷ 2 ∷ 3 ∷ 4 ∷ 5 ∷ 6 ∷ 7 ∷ 8 ∷ 9 ∷ 10 ∷ 11 ∷ 12 ∷ 13 ∷ 14 ∷ 15 ∷ []))
unfolding need_of sent_of ones
struck_complete_reply_1 = refl

-- ---- struck_data

abbrev struck_data : ScenarioValue
struck_data = record {
  version = 1;
  hosts = record { dev = 7; latency = 0; most = 1; retries = 2; period = 0; offset = 0; lag = 0; offers = true } ∷ [];
  targets = record { dev = 0; latency = 0; retries = 2; disc = policies.Never; pick = picks.First; seek = 0; period = 0; offset = 0; begins = false } ∷ [];
  units = record { target = 0; unit = 0; blocks = 1; size = 16; depth = 1 } ∷ [];
  fills = record { target = 0; unit = 0; lba = 0; bytes = (0 ∷ 1 ∷ 2 ∷ 3 ∷ 4 ∷ 5 ∷ 6 ∷ 7 ∷ 8 ∷ 9 ∷ 10 ∷ 11 ∷ 12 ∷ 13 ∷ 14 ∷ 15 ∷ []) } ∷ [];
  tapes = [];
  loads = [];
  commands = record { host = 7; target = 0; unit = 0; at = 0; tag = tags.Untagged; cdb = (8 ∷ 0 ∷ 0 ∷ 0 ∷ 1 ∷ 0 ∷ []); payload = payloads.Nothing } ∷ [];
  aborts = [];
  resets = [];
  faults = record { at = 8280; bit = 8 } ∷ record { at = 11000; bit = 0 } ∷ [];
}

abbrev struck_data_events : List Event
struck_data_events = events.Accept (command 1) ∷ events.Run (command 1) ∷ events.End (command 1) 0 ∷ []

struck_data_blocks : printed (disks_of (array_after struck_data (reverse struck_data_events))) ≡ printed (started struck_data.units (record { target = 0; unit = 0; lba = 0; bytes = (0 ∷ 1 ∷ 2 ∷ 3 ∷ 4 ∷ 5 ∷ 6 ∷ 7 ∷ 8 ∷ 9 ∷ 10 ∷ 11 ∷ 12 ∷ 13 ∷ 14 ∷ 15 ∷ []) } ∷ []))
unfolding need_of sent_of ones
struck_data_blocks = refl

struck_data_reply_1 : reply_of (array_after struck_data (reverse struck_data_events)) (command 1) ≡ Some (good (0 ∷ 1 ∷ 2 ∷ 3 ∷ 4 ∷ 5 ∷ 6 ∷ 7 ∷ 8 ∷ 9 ∷ 10 ∷ 11 ∷ 12 ∷ 13 ∷ 14 ∷ 15 ∷ []))
unfolding need_of sent_of ones
struck_data_reply_1 = refl

-- ---- struck_disconnect

abbrev struck_disconnect : ScenarioValue
struck_disconnect = record {
  version = 1;
  hosts = record { dev = 7; latency = 0; most = 1; retries = 0; period = 0; offset = 0; lag = 0; offers = true } ∷ [];
  targets = record { dev = 0; latency = 0; retries = 0; disc = policies.Command; pick = picks.First; seek = 0; period = 0; offset = 0; begins = false } ∷ [];
  units = record { target = 0; unit = 0; blocks = 1; size = 16; depth = 1 } ∷ [];
  fills = record { target = 0; unit = 0; lba = 0; bytes = (0 ∷ 1 ∷ 2 ∷ 3 ∷ 4 ∷ 5 ∷ 6 ∷ 7 ∷ 8 ∷ 9 ∷ 10 ∷ 11 ∷ 12 ∷ 13 ∷ 14 ∷ 15 ∷ []) } ∷ [];
  tapes = [];
  loads = [];
  commands = record { host = 7; target = 0; unit = 0; at = 0; tag = tags.Simple 1; cdb = (8 ∷ 0 ∷ 0 ∷ 0 ∷ 1 ∷ 0 ∷ []); payload = payloads.Nothing } ∷ [];
  aborts = [];
  resets = [];
  faults = record { at = 7565; bit = 0 } ∷ [];
}

abbrev struck_disconnect_events : List Event
struck_disconnect_events = events.Accept (command 1) ∷ events.Lost (command 1) ∷ []

struck_disconnect_blocks : printed (disks_of (array_after struck_disconnect (reverse struck_disconnect_events))) ≡ printed (started struck_disconnect.units (record { target = 0; unit = 0; lba = 0; bytes = (0 ∷ 1 ∷ 2 ∷ 3 ∷ 4 ∷ 5 ∷ 6 ∷ 7 ∷ 8 ∷ 9 ∷ 10 ∷ 11 ∷ 12 ∷ 13 ∷ 14 ∷ 15 ∷ []) } ∷ []))
unfolding need_of sent_of ones
struck_disconnect_blocks = refl

-- ---- struck_save

abbrev struck_save : ScenarioValue
struck_save = record {
  version = 1;
  hosts = record { dev = 7; latency = 0; most = 1; retries = 2; period = 0; offset = 0; lag = 0; offers = true } ∷ [];
  targets = record { dev = 0; latency = 0; retries = 2; disc = policies.Burst 1; pick = picks.First; seek = 0; period = 0; offset = 0; begins = false } ∷ [];
  units = record { target = 0; unit = 0; blocks = 4; size = 16; depth = 1 } ∷ [];
  fills = [];
  tapes = [];
  loads = [];
  commands = record { host = 7; target = 0; unit = 0; at = 0; tag = tags.Simple 1; cdb = (10 ∷ 0 ∷ 0 ∷ 0 ∷ 4 ∷ 0 ∷ []); payload = payloads.From 0 } ∷ [];
  aborts = [];
  resets = [];
  faults = record { at = 15590; bit = 0 } ∷ [];
}

abbrev struck_save_events : List Event
struck_save_events = events.Accept (command 1) ∷ events.Run (command 1) ∷ events.End (command 1) 0 ∷ []

struck_save_blocks : printed (disks_of (array_after struck_save (reverse struck_save_events))) ≡ printed (started struck_save.units (record { target = 0; unit = 0; lba = 0; bytes = (0 ∷ 1 ∷ 2 ∷ 3 ∷ 4 ∷ 5 ∷ 6 ∷ 7 ∷ 8 ∷ 9 ∷ 10 ∷ 11 ∷ 12 ∷ 13 ∷ 14 ∷ 15 ∷ []) } ∷ record { target = 0; unit = 0; lba = 1; bytes = (16 ∷ 17 ∷ 18 ∷ 19 ∷ 20 ∷ 21 ∷ 22 ∷ 23 ∷ 24 ∷ 25 ∷ 26 ∷ 27 ∷ 28 ∷ 29 ∷ 30 ∷ 31 ∷ []) } ∷ record { target = 0; unit = 0; lba = 2; bytes = (32 ∷ 33 ∷ 34 ∷ 35 ∷ 36 ∷ 37 ∷ 38 ∷ 39 ∷ 40 ∷ 41 ∷ 42 ∷ 43 ∷ 44 ∷ 45 ∷ 46 ∷ 47 ∷ []) } ∷ record { target = 0; unit = 0; lba = 3; bytes = (48 ∷ 49 ∷ 50 ∷ 51 ∷ 52 ∷ 53 ∷ 54 ∷ 55 ∷ 56 ∷ 57 ∷ 58 ∷ 59 ∷ 60 ∷ 61 ∷ 62 ∷ 63 ∷ []) } ∷ []))
unfolding need_of sent_of ones
struck_save_blocks = refl

struck_save_reply_1 : reply_of (array_after struck_save (reverse struck_save_events)) (command 1) ≡ Some (good ([]))
unfolding need_of sent_of ones
struck_save_reply_1 = refl

-- ---- two_aborts

abbrev two_aborts : ScenarioValue
two_aborts = record {
  version = 1;
  hosts = record { dev = 3; latency = 0; most = 1; retries = 5; period = 50; offset = 254; lag = 0; offers = true } ∷ [];
  targets = record { dev = 1; latency = 20; retries = 5; disc = policies.NoSave 2; pick = picks.First; seek = 100000; period = 25; offset = 16; begins = false } ∷ record { dev = 7; latency = 0; retries = 5; disc = policies.NoSave 2; pick = picks.First; seek = 0; period = 50; offset = 16; begins = false } ∷ record { dev = 5; latency = 10; retries = 2; disc = policies.Command; pick = picks.First; seek = 100000; period = 50; offset = 254; begins = false } ∷ record { dev = 4; latency = 0; retries = 1; disc = policies.Never; pick = picks.First; seek = 0; period = 25; offset = 16; begins = false } ∷ [];
  units = record { target = 1; unit = 5; blocks = 4; size = 32; depth = 2 } ∷ record { target = 7; unit = 0; blocks = 8; size = 32; depth = 4 } ∷ record { target = 7; unit = 1; blocks = 1; size = 32; depth = 2 } ∷ record { target = 5; unit = 1; blocks = 4; size = 32; depth = 4 } ∷ record { target = 4; unit = 7; blocks = 8; size = 32; depth = 4 } ∷ [];
  fills = record { target = 1; unit = 5; lba = 0; bytes = (0 ∷ 135 ∷ 0 ∷ 0 ∷ 168 ∷ 140 ∷ 105 ∷ 253 ∷ 144 ∷ 0 ∷ 0 ∷ 91 ∷ 50 ∷ 16 ∷ 0 ∷ 0 ∷ 0 ∷ 24 ∷ 99 ∷ 0 ∷ 151 ∷ 242 ∷ 176 ∷ 89 ∷ 0 ∷ 51 ∷ 0 ∷ 0 ∷ 1 ∷ 203 ∷ 52 ∷ 60 ∷ []) } ∷ record { target = 1; unit = 5; lba = 1; bytes = (255 ∷ 0 ∷ 0 ∷ 16 ∷ 0 ∷ 198 ∷ 167 ∷ 0 ∷ 142 ∷ 163 ∷ 73 ∷ 154 ∷ 164 ∷ 32 ∷ 0 ∷ 0 ∷ 0 ∷ 0 ∷ 245 ∷ 0 ∷ 203 ∷ 216 ∷ 0 ∷ 197 ∷ 0 ∷ 77 ∷ 0 ∷ 0 ∷ 8 ∷ 215 ∷ 0 ∷ 91 ∷ []) } ∷ record { target = 1; unit = 5; lba = 2; bytes = (0 ∷ 0 ∷ 147 ∷ 233 ∷ 154 ∷ 0 ∷ 0 ∷ 175 ∷ 0 ∷ 0 ∷ 89 ∷ 24 ∷ 86 ∷ 249 ∷ 0 ∷ 0 ∷ 141 ∷ 0 ∷ 8 ∷ 244 ∷ 0 ∷ 78 ∷ 185 ∷ 0 ∷ 0 ∷ 0 ∷ 19 ∷ 141 ∷ 170 ∷ 148 ∷ 213 ∷ 162 ∷ []) } ∷ record { target = 1; unit = 5; lba = 3; bytes = (167 ∷ 0 ∷ 34 ∷ 188 ∷ 0 ∷ 48 ∷ 85 ∷ 236 ∷ 204 ∷ 105 ∷ 0 ∷ 247 ∷ 128 ∷ 205 ∷ 110 ∷ 0 ∷ 196 ∷ 0 ∷ 78 ∷ 222 ∷ 0 ∷ 0 ∷ 0 ∷ 36 ∷ 119 ∷ 0 ∷ 0 ∷ 41 ∷ 0 ∷ 0 ∷ 0 ∷ 190 ∷ []) } ∷ record { target = 7; unit = 0; lba = 0; bytes = (92 ∷ 12 ∷ 249 ∷ 53 ∷ 0 ∷ 235 ∷ 0 ∷ 223 ∷ 114 ∷ 0 ∷ 0 ∷ 3 ∷ 117 ∷ 223 ∷ 48 ∷ 0 ∷ 32 ∷ 24 ∷ 200 ∷ 176 ∷ 0 ∷ 0 ∷ 244 ∷ 0 ∷ 61 ∷ 81 ∷ 0 ∷ 62 ∷ 0 ∷ 0 ∷ 0 ∷ 230 ∷ []) } ∷ record { target = 7; unit = 0; lba = 3; bytes = (135 ∷ 94 ∷ 0 ∷ 0 ∷ 0 ∷ 0 ∷ 143 ∷ 242 ∷ 106 ∷ 43 ∷ 194 ∷ 220 ∷ 0 ∷ 0 ∷ 0 ∷ 0 ∷ 102 ∷ 0 ∷ 97 ∷ 58 ∷ 121 ∷ 0 ∷ 0 ∷ 238 ∷ 0 ∷ 116 ∷ 51 ∷ 59 ∷ 44 ∷ 217 ∷ 160 ∷ 28 ∷ []) } ∷ record { target = 7; unit = 0; lba = 4; bytes = (113 ∷ 72 ∷ 21 ∷ 34 ∷ 0 ∷ 44 ∷ 154 ∷ 137 ∷ 246 ∷ 244 ∷ 0 ∷ 155 ∷ 132 ∷ 0 ∷ 200 ∷ 134 ∷ 82 ∷ 165 ∷ 0 ∷ 0 ∷ 196 ∷ 24 ∷ 0 ∷ 192 ∷ 159 ∷ 0 ∷ 0 ∷ 36 ∷ 184 ∷ 234 ∷ 55 ∷ 0 ∷ []) } ∷ record { target = 7; unit = 0; lba = 5; bytes = (0 ∷ 0 ∷ 98 ∷ 0 ∷ 174 ∷ 188 ∷ 0 ∷ 243 ∷ 0 ∷ 0 ∷ 0 ∷ 0 ∷ 107 ∷ 33 ∷ 0 ∷ 12 ∷ 236 ∷ 0 ∷ 6 ∷ 93 ∷ 195 ∷ 70 ∷ 112 ∷ 73 ∷ 242 ∷ 2 ∷ 51 ∷ 229 ∷ 160 ∷ 0 ∷ 33 ∷ 68 ∷ []) } ∷ record { target = 7; unit = 0; lba = 6; bytes = (91 ∷ 0 ∷ 145 ∷ 0 ∷ 0 ∷ 0 ∷ 56 ∷ 0 ∷ 0 ∷ 136 ∷ 113 ∷ 22 ∷ 0 ∷ 69 ∷ 0 ∷ 0 ∷ 0 ∷ 32 ∷ 167 ∷ 0 ∷ 34 ∷ 0 ∷ 132 ∷ 16 ∷ 0 ∷ 45 ∷ 0 ∷ 123 ∷ 0 ∷ 22 ∷ 0 ∷ 45 ∷ []) } ∷ record { target = 5; unit = 1; lba = 3; bytes = (0 ∷ 83 ∷ 0 ∷ 0 ∷ 0 ∷ 114 ∷ 226 ∷ 40 ∷ 0 ∷ 48 ∷ 111 ∷ 0 ∷ 233 ∷ 91 ∷ 35 ∷ 53 ∷ 239 ∷ 0 ∷ 0 ∷ 0 ∷ 0 ∷ 189 ∷ 0 ∷ 105 ∷ 191 ∷ 194 ∷ 0 ∷ 0 ∷ 146 ∷ 68 ∷ 112 ∷ 0 ∷ []) } ∷ record { target = 4; unit = 7; lba = 0; bytes = (0 ∷ 0 ∷ 0 ∷ 0 ∷ 85 ∷ 136 ∷ 163 ∷ 96 ∷ 0 ∷ 249 ∷ 249 ∷ 52 ∷ 86 ∷ 0 ∷ 179 ∷ 214 ∷ 201 ∷ 0 ∷ 0 ∷ 0 ∷ 240 ∷ 36 ∷ 61 ∷ 0 ∷ 0 ∷ 230 ∷ 0 ∷ 187 ∷ 86 ∷ 0 ∷ 204 ∷ 7 ∷ []) } ∷ record { target = 4; unit = 7; lba = 1; bytes = (0 ∷ 63 ∷ 91 ∷ 16 ∷ 241 ∷ 0 ∷ 140 ∷ 132 ∷ 76 ∷ 0 ∷ 0 ∷ 8 ∷ 0 ∷ 222 ∷ 0 ∷ 0 ∷ 125 ∷ 0 ∷ 252 ∷ 228 ∷ 0 ∷ 0 ∷ 248 ∷ 50 ∷ 0 ∷ 0 ∷ 140 ∷ 114 ∷ 42 ∷ 0 ∷ 218 ∷ 30 ∷ []) } ∷ record { target = 4; unit = 7; lba = 2; bytes = (155 ∷ 91 ∷ 0 ∷ 0 ∷ 229 ∷ 241 ∷ 170 ∷ 7 ∷ 142 ∷ 0 ∷ 177 ∷ 0 ∷ 0 ∷ 134 ∷ 226 ∷ 60 ∷ 0 ∷ 17 ∷ 0 ∷ 54 ∷ 0 ∷ 35 ∷ 75 ∷ 69 ∷ 0 ∷ 0 ∷ 62 ∷ 46 ∷ 114 ∷ 0 ∷ 0 ∷ 0 ∷ []) } ∷ record { target = 4; unit = 7; lba = 3; bytes = (60 ∷ 196 ∷ 109 ∷ 40 ∷ 0 ∷ 122 ∷ 68 ∷ 0 ∷ 29 ∷ 178 ∷ 0 ∷ 0 ∷ 0 ∷ 44 ∷ 0 ∷ 0 ∷ 244 ∷ 155 ∷ 167 ∷ 6 ∷ 200 ∷ 88 ∷ 0 ∷ 118 ∷ 0 ∷ 230 ∷ 215 ∷ 65 ∷ 0 ∷ 0 ∷ 231 ∷ 117 ∷ []) } ∷ record { target = 4; unit = 7; lba = 5; bytes = (154 ∷ 58 ∷ 0 ∷ 117 ∷ 0 ∷ 0 ∷ 139 ∷ 205 ∷ 0 ∷ 0 ∷ 0 ∷ 163 ∷ 180 ∷ 67 ∷ 41 ∷ 0 ∷ 0 ∷ 30 ∷ 45 ∷ 69 ∷ 158 ∷ 232 ∷ 0 ∷ 150 ∷ 251 ∷ 184 ∷ 0 ∷ 23 ∷ 202 ∷ 135 ∷ 42 ∷ 19 ∷ []) } ∷ record { target = 4; unit = 7; lba = 6; bytes = (170 ∷ 0 ∷ 0 ∷ 20 ∷ 90 ∷ 177 ∷ 94 ∷ 139 ∷ 92 ∷ 223 ∷ 0 ∷ 0 ∷ 0 ∷ 144 ∷ 37 ∷ 92 ∷ 74 ∷ 0 ∷ 166 ∷ 0 ∷ 137 ∷ 103 ∷ 0 ∷ 66 ∷ 215 ∷ 249 ∷ 216 ∷ 0 ∷ 0 ∷ 0 ∷ 0 ∷ 124 ∷ []) } ∷ [];
  tapes = [];
  loads = [];
  commands = record { host = 3; target = 7; unit = 0; at = 89108; tag = tags.Simple 255; cdb = (8 ∷ 2 ∷ 0 ∷ 0 ∷ 1 ∷ 0 ∷ []); payload = payloads.Nothing } ∷ [];
  aborts = record { host = 3; target = 1; unit = 2; at = 103123; what = (aborts.Tag 2) } ∷ record { host = 3; target = 4; unit = 7; at = 111568; what = aborts.Device } ∷ [];
  resets = [];
  faults = record { at = 112768; bit = 5 } ∷ record { at = 113368; bit = 7 } ∷ record { at = 93698; bit = 5 } ∷ [];
}

abbrev two_aborts_events : List Event
two_aborts_events = events.Accept (command 1) ∷ events.Run (command 1) ∷ events.End (command 1) 2 ∷ events.Aborted 3 1 2 (aborts.Tag 2) ∷ events.Aborted 3 4 7 aborts.Device ∷ events.Accept (sense 1) ∷ events.Run (sense 1) ∷ events.End (sense 1) 0 ∷ []

two_aborts_blocks : printed (disks_of (array_after two_aborts (reverse two_aborts_events))) ≡ printed (started two_aborts.units (record { target = 1; unit = 5; lba = 0; bytes = (0 ∷ 135 ∷ 0 ∷ 0 ∷ 168 ∷ 140 ∷ 105 ∷ 253 ∷ 144 ∷ 0 ∷ 0 ∷ 91 ∷ 50 ∷ 16 ∷ 0 ∷ 0 ∷ 0 ∷ 24 ∷ 99 ∷ 0 ∷ 151 ∷ 242 ∷ 176 ∷ 89 ∷ 0 ∷ 51 ∷ 0 ∷ 0 ∷ 1 ∷ 203 ∷ 52 ∷ 60 ∷ []) } ∷ record { target = 1; unit = 5; lba = 1; bytes = (255 ∷ 0 ∷ 0 ∷ 16 ∷ 0 ∷ 198 ∷ 167 ∷ 0 ∷ 142 ∷ 163 ∷ 73 ∷ 154 ∷ 164 ∷ 32 ∷ 0 ∷ 0 ∷ 0 ∷ 0 ∷ 245 ∷ 0 ∷ 203 ∷ 216 ∷ 0 ∷ 197 ∷ 0 ∷ 77 ∷ 0 ∷ 0 ∷ 8 ∷ 215 ∷ 0 ∷ 91 ∷ []) } ∷ record { target = 1; unit = 5; lba = 2; bytes = (0 ∷ 0 ∷ 147 ∷ 233 ∷ 154 ∷ 0 ∷ 0 ∷ 175 ∷ 0 ∷ 0 ∷ 89 ∷ 24 ∷ 86 ∷ 249 ∷ 0 ∷ 0 ∷ 141 ∷ 0 ∷ 8 ∷ 244 ∷ 0 ∷ 78 ∷ 185 ∷ 0 ∷ 0 ∷ 0 ∷ 19 ∷ 141 ∷ 170 ∷ 148 ∷ 213 ∷ 162 ∷ []) } ∷ record { target = 1; unit = 5; lba = 3; bytes = (167 ∷ 0 ∷ 34 ∷ 188 ∷ 0 ∷ 48 ∷ 85 ∷ 236 ∷ 204 ∷ 105 ∷ 0 ∷ 247 ∷ 128 ∷ 205 ∷ 110 ∷ 0 ∷ 196 ∷ 0 ∷ 78 ∷ 222 ∷ 0 ∷ 0 ∷ 0 ∷ 36 ∷ 119 ∷ 0 ∷ 0 ∷ 41 ∷ 0 ∷ 0 ∷ 0 ∷ 190 ∷ []) } ∷ record { target = 7; unit = 0; lba = 0; bytes = (92 ∷ 12 ∷ 249 ∷ 53 ∷ 0 ∷ 235 ∷ 0 ∷ 223 ∷ 114 ∷ 0 ∷ 0 ∷ 3 ∷ 117 ∷ 223 ∷ 48 ∷ 0 ∷ 32 ∷ 24 ∷ 200 ∷ 176 ∷ 0 ∷ 0 ∷ 244 ∷ 0 ∷ 61 ∷ 81 ∷ 0 ∷ 62 ∷ 0 ∷ 0 ∷ 0 ∷ 230 ∷ []) } ∷ record { target = 7; unit = 0; lba = 3; bytes = (135 ∷ 94 ∷ 0 ∷ 0 ∷ 0 ∷ 0 ∷ 143 ∷ 242 ∷ 106 ∷ 43 ∷ 194 ∷ 220 ∷ 0 ∷ 0 ∷ 0 ∷ 0 ∷ 102 ∷ 0 ∷ 97 ∷ 58 ∷ 121 ∷ 0 ∷ 0 ∷ 238 ∷ 0 ∷ 116 ∷ 51 ∷ 59 ∷ 44 ∷ 217 ∷ 160 ∷ 28 ∷ []) } ∷ record { target = 7; unit = 0; lba = 4; bytes = (113 ∷ 72 ∷ 21 ∷ 34 ∷ 0 ∷ 44 ∷ 154 ∷ 137 ∷ 246 ∷ 244 ∷ 0 ∷ 155 ∷ 132 ∷ 0 ∷ 200 ∷ 134 ∷ 82 ∷ 165 ∷ 0 ∷ 0 ∷ 196 ∷ 24 ∷ 0 ∷ 192 ∷ 159 ∷ 0 ∷ 0 ∷ 36 ∷ 184 ∷ 234 ∷ 55 ∷ 0 ∷ []) } ∷ record { target = 7; unit = 0; lba = 5; bytes = (0 ∷ 0 ∷ 98 ∷ 0 ∷ 174 ∷ 188 ∷ 0 ∷ 243 ∷ 0 ∷ 0 ∷ 0 ∷ 0 ∷ 107 ∷ 33 ∷ 0 ∷ 12 ∷ 236 ∷ 0 ∷ 6 ∷ 93 ∷ 195 ∷ 70 ∷ 112 ∷ 73 ∷ 242 ∷ 2 ∷ 51 ∷ 229 ∷ 160 ∷ 0 ∷ 33 ∷ 68 ∷ []) } ∷ record { target = 7; unit = 0; lba = 6; bytes = (91 ∷ 0 ∷ 145 ∷ 0 ∷ 0 ∷ 0 ∷ 56 ∷ 0 ∷ 0 ∷ 136 ∷ 113 ∷ 22 ∷ 0 ∷ 69 ∷ 0 ∷ 0 ∷ 0 ∷ 32 ∷ 167 ∷ 0 ∷ 34 ∷ 0 ∷ 132 ∷ 16 ∷ 0 ∷ 45 ∷ 0 ∷ 123 ∷ 0 ∷ 22 ∷ 0 ∷ 45 ∷ []) } ∷ record { target = 5; unit = 1; lba = 3; bytes = (0 ∷ 83 ∷ 0 ∷ 0 ∷ 0 ∷ 114 ∷ 226 ∷ 40 ∷ 0 ∷ 48 ∷ 111 ∷ 0 ∷ 233 ∷ 91 ∷ 35 ∷ 53 ∷ 239 ∷ 0 ∷ 0 ∷ 0 ∷ 0 ∷ 189 ∷ 0 ∷ 105 ∷ 191 ∷ 194 ∷ 0 ∷ 0 ∷ 146 ∷ 68 ∷ 112 ∷ 0 ∷ []) } ∷ record { target = 4; unit = 7; lba = 0; bytes = (0 ∷ 0 ∷ 0 ∷ 0 ∷ 85 ∷ 136 ∷ 163 ∷ 96 ∷ 0 ∷ 249 ∷ 249 ∷ 52 ∷ 86 ∷ 0 ∷ 179 ∷ 214 ∷ 201 ∷ 0 ∷ 0 ∷ 0 ∷ 240 ∷ 36 ∷ 61 ∷ 0 ∷ 0 ∷ 230 ∷ 0 ∷ 187 ∷ 86 ∷ 0 ∷ 204 ∷ 7 ∷ []) } ∷ record { target = 4; unit = 7; lba = 1; bytes = (0 ∷ 63 ∷ 91 ∷ 16 ∷ 241 ∷ 0 ∷ 140 ∷ 132 ∷ 76 ∷ 0 ∷ 0 ∷ 8 ∷ 0 ∷ 222 ∷ 0 ∷ 0 ∷ 125 ∷ 0 ∷ 252 ∷ 228 ∷ 0 ∷ 0 ∷ 248 ∷ 50 ∷ 0 ∷ 0 ∷ 140 ∷ 114 ∷ 42 ∷ 0 ∷ 218 ∷ 30 ∷ []) } ∷ record { target = 4; unit = 7; lba = 2; bytes = (155 ∷ 91 ∷ 0 ∷ 0 ∷ 229 ∷ 241 ∷ 170 ∷ 7 ∷ 142 ∷ 0 ∷ 177 ∷ 0 ∷ 0 ∷ 134 ∷ 226 ∷ 60 ∷ 0 ∷ 17 ∷ 0 ∷ 54 ∷ 0 ∷ 35 ∷ 75 ∷ 69 ∷ 0 ∷ 0 ∷ 62 ∷ 46 ∷ 114 ∷ 0 ∷ 0 ∷ 0 ∷ []) } ∷ record { target = 4; unit = 7; lba = 3; bytes = (60 ∷ 196 ∷ 109 ∷ 40 ∷ 0 ∷ 122 ∷ 68 ∷ 0 ∷ 29 ∷ 178 ∷ 0 ∷ 0 ∷ 0 ∷ 44 ∷ 0 ∷ 0 ∷ 244 ∷ 155 ∷ 167 ∷ 6 ∷ 200 ∷ 88 ∷ 0 ∷ 118 ∷ 0 ∷ 230 ∷ 215 ∷ 65 ∷ 0 ∷ 0 ∷ 231 ∷ 117 ∷ []) } ∷ record { target = 4; unit = 7; lba = 5; bytes = (154 ∷ 58 ∷ 0 ∷ 117 ∷ 0 ∷ 0 ∷ 139 ∷ 205 ∷ 0 ∷ 0 ∷ 0 ∷ 163 ∷ 180 ∷ 67 ∷ 41 ∷ 0 ∷ 0 ∷ 30 ∷ 45 ∷ 69 ∷ 158 ∷ 232 ∷ 0 ∷ 150 ∷ 251 ∷ 184 ∷ 0 ∷ 23 ∷ 202 ∷ 135 ∷ 42 ∷ 19 ∷ []) } ∷ record { target = 4; unit = 7; lba = 6; bytes = (170 ∷ 0 ∷ 0 ∷ 20 ∷ 90 ∷ 177 ∷ 94 ∷ 139 ∷ 92 ∷ 223 ∷ 0 ∷ 0 ∷ 0 ∷ 144 ∷ 37 ∷ 92 ∷ 74 ∷ 0 ∷ 166 ∷ 0 ∷ 137 ∷ 103 ∷ 0 ∷ 66 ∷ 215 ∷ 249 ∷ 216 ∷ 0 ∷ 0 ∷ 0 ∷ 0 ∷ 124 ∷ []) } ∷ []))
unfolding need_of sent_of ones
two_aborts_blocks = refl

two_aborts_reply_1 : reply_of (array_after two_aborts (reverse two_aborts_events)) (command 1) ≡ Some (check_condition (sense_of 5 33 0))
unfolding need_of sent_of ones
two_aborts_reply_1 = refl

two_aborts_reply_2 : reply_of (array_after two_aborts (reverse two_aborts_events)) (sense 1) ≡ Some (good (112 ∷ 0 ∷ 5 ∷ 0 ∷ 0 ∷ 0 ∷ 0 ∷ 10 ∷ 0 ∷ 0 ∷ 0 ∷ 0 ∷ 33 ∷ 0 ∷ 0 ∷ 0 ∷ 0 ∷ 0 ∷ []))
unfolding need_of sent_of ones
two_aborts_reply_2 = refl

-- ---- unanswered_by_struck_ids

abbrev unanswered_by_struck_ids : ScenarioValue
unanswered_by_struck_ids = record {
  version = 1;
  hosts = record { dev = 7; latency = 0; most = 1; retries = 9; period = 0; offset = 0; lag = 0; offers = true } ∷ [];
  targets = record { dev = 0; latency = 0; retries = 2; disc = policies.Never; pick = picks.First; seek = 0; period = 0; offset = 0; begins = false } ∷ [];
  units = record { target = 0; unit = 0; blocks = 1; size = 16; depth = 1 } ∷ [];
  fills = record { target = 0; unit = 0; lba = 0; bytes = (0 ∷ 1 ∷ 2 ∷ 3 ∷ 4 ∷ 5 ∷ 6 ∷ 7 ∷ 8 ∷ 9 ∷ 10 ∷ 11 ∷ 12 ∷ 13 ∷ 14 ∷ 15 ∷ []) } ∷ [];
  tapes = [];
  loads = [];
  commands = record { host = 7; target = 0; unit = 0; at = 0; tag = tags.Untagged; cdb = (8 ∷ 0 ∷ 0 ∷ 0 ∷ 1 ∷ 0 ∷ []); payload = payloads.Nothing } ∷ [];
  aborts = [];
  resets = [];
  faults = record { at = 5290; bit = 0 } ∷ record { at = 5290; bit = 1 } ∷ record { at = 5290; bit = 2 } ∷ record { at = 5290; bit = 3 } ∷ record { at = 5290; bit = 4 } ∷ record { at = 5290; bit = 5 } ∷ record { at = 5290; bit = 6 } ∷ record { at = 5290; bit = 7 } ∷ record { at = 5290; bit = 8 } ∷ [];
}

abbrev unanswered_by_struck_ids_events : List Event
unanswered_by_struck_ids_events = events.Accept (command 1) ∷ events.Run (command 1) ∷ events.End (command 1) 0 ∷ []

unanswered_by_struck_ids_blocks : printed (disks_of (array_after unanswered_by_struck_ids (reverse unanswered_by_struck_ids_events))) ≡ printed (started unanswered_by_struck_ids.units (record { target = 0; unit = 0; lba = 0; bytes = (0 ∷ 1 ∷ 2 ∷ 3 ∷ 4 ∷ 5 ∷ 6 ∷ 7 ∷ 8 ∷ 9 ∷ 10 ∷ 11 ∷ 12 ∷ 13 ∷ 14 ∷ 15 ∷ []) } ∷ []))
unfolding need_of sent_of ones
unanswered_by_struck_ids_blocks = refl

unanswered_by_struck_ids_reply_1 : reply_of (array_after unanswered_by_struck_ids (reverse unanswered_by_struck_ids_events)) (command 1) ≡ Some (good (0 ∷ 1 ∷ 2 ∷ 3 ∷ 4 ∷ 5 ∷ 6 ∷ 7 ∷ 8 ∷ 9 ∷ 10 ∷ 11 ∷ 12 ∷ 13 ∷ 14 ∷ 15 ∷ []))
unfolding need_of sent_of ones
unanswered_by_struck_ids_reply_1 = refl

-- ---- write_in_bursts

abbrev write_in_bursts : ScenarioValue
write_in_bursts = record {
  version = 1;
  hosts = record { dev = 7; latency = 0; most = 1; retries = 2; period = 0; offset = 0; lag = 0; offers = true } ∷ [];
  targets = record { dev = 0; latency = 0; retries = 2; disc = policies.Burst 1; pick = picks.First; seek = 0; period = 0; offset = 0; begins = false } ∷ [];
  units = record { target = 0; unit = 0; blocks = 4; size = 16; depth = 1 } ∷ [];
  fills = [];
  tapes = [];
  loads = [];
  commands = record { host = 7; target = 0; unit = 0; at = 0; tag = tags.Simple 1; cdb = (10 ∷ 0 ∷ 0 ∷ 0 ∷ 4 ∷ 0 ∷ []); payload = payloads.From 0 } ∷ [];
  aborts = [];
  resets = [];
  faults = [];
}

abbrev write_in_bursts_events : List Event
write_in_bursts_events = events.Accept (command 1) ∷ events.Run (command 1) ∷ events.End (command 1) 0 ∷ []

write_in_bursts_blocks : printed (disks_of (array_after write_in_bursts (reverse write_in_bursts_events))) ≡ printed (started write_in_bursts.units (record { target = 0; unit = 0; lba = 0; bytes = (0 ∷ 1 ∷ 2 ∷ 3 ∷ 4 ∷ 5 ∷ 6 ∷ 7 ∷ 8 ∷ 9 ∷ 10 ∷ 11 ∷ 12 ∷ 13 ∷ 14 ∷ 15 ∷ []) } ∷ record { target = 0; unit = 0; lba = 1; bytes = (16 ∷ 17 ∷ 18 ∷ 19 ∷ 20 ∷ 21 ∷ 22 ∷ 23 ∷ 24 ∷ 25 ∷ 26 ∷ 27 ∷ 28 ∷ 29 ∷ 30 ∷ 31 ∷ []) } ∷ record { target = 0; unit = 0; lba = 2; bytes = (32 ∷ 33 ∷ 34 ∷ 35 ∷ 36 ∷ 37 ∷ 38 ∷ 39 ∷ 40 ∷ 41 ∷ 42 ∷ 43 ∷ 44 ∷ 45 ∷ 46 ∷ 47 ∷ []) } ∷ record { target = 0; unit = 0; lba = 3; bytes = (48 ∷ 49 ∷ 50 ∷ 51 ∷ 52 ∷ 53 ∷ 54 ∷ 55 ∷ 56 ∷ 57 ∷ 58 ∷ 59 ∷ 60 ∷ 61 ∷ 62 ∷ 63 ∷ []) } ∷ []))
unfolding need_of sent_of ones
write_in_bursts_blocks = refl

write_in_bursts_reply_1 : reply_of (array_after write_in_bursts (reverse write_in_bursts_events)) (command 1) ≡ Some (good ([]))
unfolding need_of sent_of ones
write_in_bursts_reply_1 = refl
