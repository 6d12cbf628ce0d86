-- Histories of whole runs, played on the plain disk array and computed: the blocks and the replies are those of
-- the reports, which an independent simulator printed. Written by tools/makers/array_case.py.
use Rattle.std.proofs.Common.{ℕ, ◌≡◌, true, false, List, [], ◌∷◌, reverse, refl}
use Rattle.std.specs.Prelude.{Option, Some, None, ◌==◌, if◌then◌else◌}
use Rattle.cdb_codec.specs.declared.Sense.{Sense}
use Rattle.cdb_codec.specs.declared.status.TheConstants.{CHECK_CONDITION}
use Rattle.array_model.specs.Reels.{block, filemark}
use Rattle.array_model.specs.ArrayHistory.{tapes_of}
use lib.Count.{ones}
use Rattle.bus_base.specs.declared.ProcId.{ProcId}
use Rattle.bus_base.specs.declared.AbortKind.TheVariants as aborts
use Rattle.bus_base.specs.declared.Event.{Event}
use Rattle.bus_base.specs.declared.Event.TheVariants as events
use Rattle.bus_base.specs.declared.events.Pick.TheVariants as picks
use Rattle.scenario.specs.declared.value.FillDef.{FillDef}
use Rattle.scenario.specs.declared.value.UnitDef.{UnitDef}
use Rattle.scenario.specs.declared.value.Policy.TheVariants as policies
use Rattle.scenario.specs.declared.value.Load.TheVariants as loads
use Rattle.scenario.specs.declared.value.Tag.TheVariants as tags
use Rattle.scenario.specs.declared.value.Payload.TheVariants as payloads
use Rattle.scenario.specs.Value.{ScenarioValue}
use Rattle.scenario.specs.Needs.{need_of, sent_of}
use Rattle.array_model.specs.Contents.{Contents, starting_contents, printed_blocks}
use Rattle.array_model.specs.Execution.{Reply, good, check_condition, sense_of}
use Rattle.array_model.specs.ArrayHistory.{array_after, disks_of, reply_of}

abbrev command : ℕ → ProcId
command n = record { command = n; sense = false }

abbrev sense : ℕ → ProcId
sense n = record { command = n; sense = true }

-- The sense of a reply that ends with CHECK CONDITION.
abbrev check_in : Option Reply → Option Sense
check_in None = None
check_in (Some reply) = if reply.status == CHECK_CONDITION then Some reply.sense else None

abbrev printed : List Contents → List (List (ℕ × List ℕ))
printed [] = []
printed (c ∷ disks) = printed_blocks c ∷ printed disks

abbrev started : List UnitDef → List FillDef → List Contents
started [] fills = []
started (u ∷ units) fills = starting_contents u fills ∷ started units fills

-- ---- end_of_medium

abbrev end_of_medium : ScenarioValue
end_of_medium = record {
  version = 3;
  hosts = record { dev = 7; latency = 0; most = 1; retries = 2; period = 0; offset = 0; lag = 0; offers = true } ∷ [];
  targets = record { dev = 0; latency = 0; retries = 2; disc = policies.Never; pick = picks.First; seek = 0; period = 0; offset = 0; begins = false } ∷ [];
  units = [];
  fills = [];
  tapes = record { target = 0; unit = 0; objects = 4; size = 16; depth = 1 } ∷ [];
  loads = [];
  commands = record { host = 7; target = 0; unit = 0; at = 0; tag = tags.Untagged; cdb = (10 ∷ 1 ∷ 0 ∷ 0 ∷ 5 ∷ 0 ∷ []); payload = payloads.From 0 } ∷ record { host = 7; target = 0; unit = 0; at = 0; tag = tags.Untagged; cdb = (10 ∷ 1 ∷ 0 ∷ 0 ∷ 4 ∷ 0 ∷ []); payload = payloads.From 0 } ∷ record { host = 7; target = 0; unit = 0; at = 0; tag = tags.Untagged; cdb = (10 ∷ 1 ∷ 0 ∷ 0 ∷ 1 ∷ 0 ∷ []); payload = payloads.From 153 } ∷ record { host = 7; target = 0; unit = 0; at = 0; tag = tags.Untagged; cdb = (16 ∷ 0 ∷ 0 ∷ 0 ∷ 1 ∷ 0 ∷ []); payload = payloads.Nothing } ∷ record { host = 7; target = 0; unit = 0; at = 0; tag = tags.Untagged; cdb = (10 ∷ 1 ∷ 0 ∷ 0 ∷ 0 ∷ 0 ∷ []); payload = payloads.Nothing } ∷ record { host = 7; target = 0; unit = 0; at = 0; tag = tags.Untagged; cdb = (16 ∷ 0 ∷ 0 ∷ 0 ∷ 0 ∷ 0 ∷ []); payload = payloads.Nothing } ∷ record { host = 7; target = 0; unit = 0; at = 0; tag = tags.Untagged; cdb = (17 ∷ 0 ∷ 255 ∷ 255 ∷ 255 ∷ 0 ∷ []); payload = payloads.Nothing } ∷ record { host = 7; target = 0; unit = 0; at = 0; tag = tags.Untagged; cdb = (16 ∷ 0 ∷ 0 ∷ 0 ∷ 1 ∷ 0 ∷ []); payload = payloads.Nothing } ∷ record { host = 7; target = 0; unit = 0; at = 0; tag = tags.Untagged; cdb = (8 ∷ 1 ∷ 0 ∷ 0 ∷ 1 ∷ 0 ∷ []); payload = payloads.Nothing } ∷ [];
  aborts = [];
  resets = [];
  faults = [];
}

abbrev end_of_medium_events : List Event
end_of_medium_events = events.Accept (command 1) ∷ events.Run (command 1) ∷ events.End (command 1) 2 ∷ events.Accept (sense 1) ∷ events.Run (sense 1) ∷ events.End (sense 1) 0 ∷ events.Accept (command 2) ∷ events.Run (command 2) ∷ events.End (command 2) 0 ∷ events.Accept (command 3) ∷ events.Run (command 3) ∷ events.End (command 3) 2 ∷ events.Accept (sense 3) ∷ events.Run (sense 3) ∷ events.End (sense 3) 0 ∷ events.Accept (command 4) ∷ events.Run (command 4) ∷ events.End (command 4) 2 ∷ events.Accept (sense 4) ∷ events.Run (sense 4) ∷ events.End (sense 4) 0 ∷ events.Accept (command 5) ∷ events.Run (command 5) ∷ events.End (command 5) 0 ∷ events.Accept (command 6) ∷ events.Run (command 6) ∷ events.End (command 6) 0 ∷ events.Accept (command 7) ∷ events.Run (command 7) ∷ events.End (command 7) 0 ∷ events.Accept (command 8) ∷ events.Run (command 8) ∷ events.End (command 8) 0 ∷ events.Accept (command 9) ∷ events.Run (command 9) ∷ events.End (command 9) 2 ∷ events.Accept (sense 9) ∷ events.Run (sense 9) ∷ events.End (sense 9) 0 ∷ []

end_of_medium_blocks : printed (disks_of (array_after end_of_medium (reverse end_of_medium_events))) ≡ printed (started end_of_medium.units ([]))
unfolding need_of sent_of ones
end_of_medium_blocks = refl

end_of_medium_tapes : tapes_of (array_after end_of_medium (reverse end_of_medium_events)) ≡ record { count = 4; size = 16; touched = []; reel = Some (record { objects = (block (0 ∷ 1 ∷ 2 ∷ 3 ∷ 4 ∷ 5 ∷ 6 ∷ 7 ∷ 8 ∷ 9 ∷ 10 ∷ 11 ∷ 12 ∷ 13 ∷ 14 ∷ 15 ∷ []) ∷ block (16 ∷ 17 ∷ 18 ∷ 19 ∷ 20 ∷ 21 ∷ 22 ∷ 23 ∷ 24 ∷ 25 ∷ 26 ∷ 27 ∷ 28 ∷ 29 ∷ 30 ∷ 31 ∷ []) ∷ block (32 ∷ 33 ∷ 34 ∷ 35 ∷ 36 ∷ 37 ∷ 38 ∷ 39 ∷ 40 ∷ 41 ∷ 42 ∷ 43 ∷ 44 ∷ 45 ∷ 46 ∷ 47 ∷ []) ∷ filemark ∷ []); position = 4 }) } ∷ []
unfolding need_of sent_of ones
end_of_medium_tapes = refl

end_of_medium_reply_1 : check_in (reply_of (array_after end_of_medium (reverse end_of_medium_events)) (command 1)) ≡ Some (record { key = 13; asc = 0; ascq = 2; marks = 64; residue = Some 5 })
unfolding need_of sent_of ones
end_of_medium_reply_1 = refl

end_of_medium_reply_2 : reply_of (array_after end_of_medium (reverse end_of_medium_events)) (sense 1) ≡ Some (good (240 ∷ 0 ∷ 77 ∷ 0 ∷ 0 ∷ 0 ∷ 5 ∷ 10 ∷ 0 ∷ 0 ∷ 0 ∷ 0 ∷ 0 ∷ 2 ∷ 0 ∷ 0 ∷ 0 ∷ 0 ∷ []))
unfolding need_of sent_of ones
end_of_medium_reply_2 = refl

end_of_medium_reply_3 : reply_of (array_after end_of_medium (reverse end_of_medium_events)) (command 2) ≡ Some (good ([]))
unfolding need_of sent_of ones
end_of_medium_reply_3 = refl

end_of_medium_reply_4 : check_in (reply_of (array_after end_of_medium (reverse end_of_medium_events)) (command 3)) ≡ Some (record { key = 13; asc = 0; ascq = 2; marks = 64; residue = Some 1 })
unfolding need_of sent_of ones
end_of_medium_reply_4 = refl

end_of_medium_reply_5 : reply_of (array_after end_of_medium (reverse end_of_medium_events)) (sense 3) ≡ Some (good (240 ∷ 0 ∷ 77 ∷ 0 ∷ 0 ∷ 0 ∷ 1 ∷ 10 ∷ 0 ∷ 0 ∷ 0 ∷ 0 ∷ 0 ∷ 2 ∷ 0 ∷ 0 ∷ 0 ∷ 0 ∷ []))
unfolding need_of sent_of ones
end_of_medium_reply_5 = refl

end_of_medium_reply_6 : check_in (reply_of (array_after end_of_medium (reverse end_of_medium_events)) (command 4)) ≡ Some (record { key = 13; asc = 0; ascq = 2; marks = 64; residue = Some 1 })
unfolding need_of sent_of ones
end_of_medium_reply_6 = refl

end_of_medium_reply_7 : reply_of (array_after end_of_medium (reverse end_of_medium_events)) (sense 4) ≡ Some (good (240 ∷ 0 ∷ 77 ∷ 0 ∷ 0 ∷ 0 ∷ 1 ∷ 10 ∷ 0 ∷ 0 ∷ 0 ∷ 0 ∷ 0 ∷ 2 ∷ 0 ∷ 0 ∷ 0 ∷ 0 ∷ []))
unfolding need_of sent_of ones
end_of_medium_reply_7 = refl

end_of_medium_reply_8 : reply_of (array_after end_of_medium (reverse end_of_medium_events)) (command 5) ≡ Some (good ([]))
unfolding need_of sent_of ones
end_of_medium_reply_8 = refl

end_of_medium_reply_9 : reply_of (array_after end_of_medium (reverse end_of_medium_events)) (command 6) ≡ Some (good ([]))
unfolding need_of sent_of ones
end_of_medium_reply_9 = refl

end_of_medium_reply_10 : reply_of (array_after end_of_medium (reverse end_of_medium_events)) (command 7) ≡ Some (good ([]))
unfolding need_of sent_of ones
end_of_medium_reply_10 = refl

end_of_medium_reply_11 : reply_of (array_after end_of_medium (reverse end_of_medium_events)) (command 8) ≡ Some (good ([]))
unfolding need_of sent_of ones
end_of_medium_reply_11 = refl

end_of_medium_reply_12 : check_in (reply_of (array_after end_of_medium (reverse end_of_medium_events)) (command 9)) ≡ Some (record { key = 8; asc = 0; ascq = 5; marks = 0; residue = Some 1 })
unfolding need_of sent_of ones
end_of_medium_reply_12 = refl

end_of_medium_reply_13 : reply_of (array_after end_of_medium (reverse end_of_medium_events)) (sense 9) ≡ Some (good (240 ∷ 0 ∷ 8 ∷ 0 ∷ 0 ∷ 0 ∷ 1 ∷ 10 ∷ 0 ∷ 0 ∷ 0 ∷ 0 ∷ 0 ∷ 5 ∷ 0 ∷ 0 ∷ 0 ∷ 0 ∷ []))
unfolding need_of sent_of ones
end_of_medium_reply_13 = refl

-- ---- full_tape

abbrev full_tape : ScenarioValue
full_tape = record {
  version = 3;
  hosts = record { dev = 7; latency = 0; most = 1; retries = 2; period = 0; offset = 0; lag = 0; offers = true } ∷ [];
  targets = record { dev = 0; latency = 0; retries = 2; disc = policies.Never; pick = picks.First; seek = 0; period = 0; offset = 0; begins = false } ∷ [];
  units = [];
  fills = [];
  tapes = record { target = 0; unit = 0; objects = 2; size = 16; depth = 1 } ∷ [];
  loads = record { target = 0; unit = 0; what = loads.Block (65 ∷ 65 ∷ 65 ∷ 65 ∷ 65 ∷ 65 ∷ 65 ∷ 65 ∷ 65 ∷ 65 ∷ 65 ∷ 65 ∷ 65 ∷ 65 ∷ 65 ∷ 65 ∷ []) } ∷ record { target = 0; unit = 0; what = loads.Mark } ∷ [];
  commands = record { host = 7; target = 0; unit = 0; at = 0; tag = tags.Untagged; cdb = (17 ∷ 3 ∷ 0 ∷ 0 ∷ 0 ∷ 0 ∷ []); payload = payloads.Nothing } ∷ record { host = 7; target = 0; unit = 0; at = 0; tag = tags.Untagged; cdb = (16 ∷ 0 ∷ 0 ∷ 0 ∷ 1 ∷ 0 ∷ []); payload = payloads.Nothing } ∷ record { host = 7; target = 0; unit = 0; at = 0; tag = tags.Untagged; cdb = (17 ∷ 1 ∷ 255 ∷ 255 ∷ 255 ∷ 0 ∷ []); payload = payloads.Nothing } ∷ record { host = 7; target = 0; unit = 0; at = 0; tag = tags.Untagged; cdb = (16 ∷ 0 ∷ 0 ∷ 0 ∷ 1 ∷ 0 ∷ []); payload = payloads.Nothing } ∷ record { host = 7; target = 0; unit = 0; at = 0; tag = tags.Untagged; cdb = (8 ∷ 1 ∷ 0 ∷ 0 ∷ 1 ∷ 0 ∷ []); payload = payloads.Nothing } ∷ record { host = 7; target = 0; unit = 0; at = 0; tag = tags.Untagged; cdb = (1 ∷ 0 ∷ 0 ∷ 0 ∷ 0 ∷ 0 ∷ []); payload = payloads.Nothing } ∷ record { host = 7; target = 0; unit = 0; at = 0; tag = tags.Untagged; cdb = (10 ∷ 1 ∷ 0 ∷ 0 ∷ 2 ∷ 0 ∷ []); payload = payloads.From 0 } ∷ record { host = 7; target = 0; unit = 0; at = 0; tag = tags.Untagged; cdb = (10 ∷ 1 ∷ 0 ∷ 0 ∷ 1 ∷ 0 ∷ []); payload = payloads.From 0 } ∷ [];
  aborts = [];
  resets = [];
  faults = [];
}

abbrev full_tape_events : List Event
full_tape_events = events.Accept (command 1) ∷ events.Run (command 1) ∷ events.End (command 1) 0 ∷ events.Accept (command 2) ∷ events.Run (command 2) ∷ events.End (command 2) 2 ∷ events.Accept (sense 2) ∷ events.Run (sense 2) ∷ events.End (sense 2) 0 ∷ events.Accept (command 3) ∷ events.Run (command 3) ∷ events.End (command 3) 0 ∷ events.Accept (command 4) ∷ events.Run (command 4) ∷ events.End (command 4) 0 ∷ events.Accept (command 5) ∷ events.Run (command 5) ∷ events.End (command 5) 2 ∷ events.Accept (sense 5) ∷ events.Run (sense 5) ∷ events.End (sense 5) 0 ∷ events.Accept (command 6) ∷ events.Run (command 6) ∷ events.End (command 6) 0 ∷ events.Accept (command 7) ∷ events.Run (command 7) ∷ events.End (command 7) 0 ∷ events.Accept (command 8) ∷ events.Run (command 8) ∷ events.End (command 8) 2 ∷ events.Accept (sense 8) ∷ events.Run (sense 8) ∷ events.End (sense 8) 0 ∷ []

full_tape_blocks : printed (disks_of (array_after full_tape (reverse full_tape_events))) ≡ printed (started full_tape.units ([]))
unfolding need_of sent_of ones
full_tape_blocks = refl

full_tape_tapes : tapes_of (array_after full_tape (reverse full_tape_events)) ≡ record { count = 2; size = 16; touched = []; reel = Some (record { objects = (block (0 ∷ 1 ∷ 2 ∷ 3 ∷ 4 ∷ 5 ∷ 6 ∷ 7 ∷ 8 ∷ 9 ∷ 10 ∷ 11 ∷ 12 ∷ 13 ∷ 14 ∷ 15 ∷ []) ∷ block (16 ∷ 17 ∷ 18 ∷ 19 ∷ 20 ∷ 21 ∷ 22 ∷ 23 ∷ 24 ∷ 25 ∷ 26 ∷ 27 ∷ 28 ∷ 29 ∷ 30 ∷ 31 ∷ []) ∷ []); position = 2 }) } ∷ []
unfolding need_of sent_of ones
full_tape_tapes = refl

full_tape_reply_1 : reply_of (array_after full_tape (reverse full_tape_events)) (command 1) ≡ Some (good ([]))
unfolding need_of sent_of ones
full_tape_reply_1 = refl

full_tape_reply_2 : check_in (reply_of (array_after full_tape (reverse full_tape_events)) (command 2)) ≡ Some (record { key = 13; asc = 0; ascq = 2; marks = 64; residue = Some 1 })
unfolding need_of sent_of ones
full_tape_reply_2 = refl

full_tape_reply_3 : reply_of (array_after full_tape (reverse full_tape_events)) (sense 2) ≡ Some (good (240 ∷ 0 ∷ 77 ∷ 0 ∷ 0 ∷ 0 ∷ 1 ∷ 10 ∷ 0 ∷ 0 ∷ 0 ∷ 0 ∷ 0 ∷ 2 ∷ 0 ∷ 0 ∷ 0 ∷ 0 ∷ []))
unfolding need_of sent_of ones
full_tape_reply_3 = refl

full_tape_reply_4 : reply_of (array_after full_tape (reverse full_tape_events)) (command 3) ≡ Some (good ([]))
unfolding need_of sent_of ones
full_tape_reply_4 = refl

full_tape_reply_5 : reply_of (array_after full_tape (reverse full_tape_events)) (command 4) ≡ Some (good ([]))
unfolding need_of sent_of ones
full_tape_reply_5 = refl

full_tape_reply_6 : check_in (reply_of (array_after full_tape (reverse full_tape_events)) (command 5)) ≡ Some (record { key = 8; asc = 0; ascq = 5; marks = 0; residue = Some 1 })
unfolding need_of sent_of ones
full_tape_reply_6 = refl

full_tape_reply_7 : reply_of (array_after full_tape (reverse full_tape_events)) (sense 5) ≡ Some (good (240 ∷ 0 ∷ 8 ∷ 0 ∷ 0 ∷ 0 ∷ 1 ∷ 10 ∷ 0 ∷ 0 ∷ 0 ∷ 0 ∷ 0 ∷ 5 ∷ 0 ∷ 0 ∷ 0 ∷ 0 ∷ []))
unfolding need_of sent_of ones
full_tape_reply_7 = refl

full_tape_reply_8 : reply_of (array_after full_tape (reverse full_tape_events)) (command 6) ≡ Some (good ([]))
unfolding need_of sent_of ones
full_tape_reply_8 = refl

full_tape_reply_9 : reply_of (array_after full_tape (reverse full_tape_events)) (command 7) ≡ Some (good ([]))
unfolding need_of sent_of ones
full_tape_reply_9 = refl

full_tape_reply_10 : check_in (reply_of (array_after full_tape (reverse full_tape_events)) (command 8)) ≡ Some (record { key = 13; asc = 0; ascq = 2; marks = 64; residue = Some 1 })
unfolding need_of sent_of ones
full_tape_reply_10 = refl

full_tape_reply_11 : reply_of (array_after full_tape (reverse full_tape_events)) (sense 8) ≡ Some (good (240 ∷ 0 ∷ 77 ∷ 0 ∷ 0 ∷ 0 ∷ 1 ∷ 10 ∷ 0 ∷ 0 ∷ 0 ∷ 0 ∷ 0 ∷ 2 ∷ 0 ∷ 0 ∷ 0 ∷ 0 ∷ []))
unfolding need_of sent_of ones
full_tape_reply_11 = refl

-- ---- space_over_blocks

abbrev space_over_blocks : ScenarioValue
space_over_blocks = record {
  version = 3;
  hosts = record { dev = 7; latency = 0; most = 1; retries = 2; period = 0; offset = 0; lag = 0; offers = true } ∷ [];
  targets = record { dev = 0; latency = 0; retries = 2; disc = policies.Never; pick = picks.First; seek = 0; period = 0; offset = 0; begins = false } ∷ [];
  units = [];
  fills = [];
  tapes = record { target = 0; unit = 0; objects = 12; size = 16; depth = 1 } ∷ [];
  loads = record { target = 0; unit = 0; what = loads.Block (65 ∷ 65 ∷ 65 ∷ 65 ∷ 65 ∷ 65 ∷ 65 ∷ 65 ∷ 65 ∷ 65 ∷ 65 ∷ 65 ∷ 65 ∷ 65 ∷ 65 ∷ 65 ∷ []) } ∷ record { target = 0; unit = 0; what = loads.Block (66 ∷ 66 ∷ 66 ∷ 66 ∷ 66 ∷ 66 ∷ 66 ∷ 66 ∷ 66 ∷ 66 ∷ 66 ∷ 66 ∷ 66 ∷ 66 ∷ 66 ∷ 66 ∷ []) } ∷ record { target = 0; unit = 0; what = loads.Mark } ∷ record { target = 0; unit = 0; what = loads.Block (67 ∷ 67 ∷ 67 ∷ 67 ∷ 67 ∷ 67 ∷ 67 ∷ 67 ∷ 67 ∷ 67 ∷ 67 ∷ 67 ∷ 67 ∷ 67 ∷ 67 ∷ 67 ∷ []) } ∷ record { target = 0; unit = 0; what = loads.Mark } ∷ record { target = 0; unit = 0; what = loads.Mark } ∷ record { target = 0; unit = 0; what = loads.Block (68 ∷ 68 ∷ 68 ∷ 68 ∷ 68 ∷ 68 ∷ 68 ∷ 68 ∷ 68 ∷ 68 ∷ 68 ∷ 68 ∷ 68 ∷ 68 ∷ 68 ∷ 68 ∷ []) } ∷ [];
  commands = record { host = 7; target = 0; unit = 0; at = 0; tag = tags.Untagged; cdb = (17 ∷ 0 ∷ 0 ∷ 0 ∷ 2 ∷ 0 ∷ []); payload = payloads.Nothing } ∷ record { host = 7; target = 0; unit = 0; at = 0; tag = tags.Untagged; cdb = (17 ∷ 0 ∷ 0 ∷ 0 ∷ 1 ∷ 0 ∷ []); payload = payloads.Nothing } ∷ record { host = 7; target = 0; unit = 0; at = 0; tag = tags.Untagged; cdb = (17 ∷ 0 ∷ 0 ∷ 0 ∷ 1 ∷ 0 ∷ []); payload = payloads.Nothing } ∷ record { host = 7; target = 0; unit = 0; at = 0; tag = tags.Untagged; cdb = (17 ∷ 0 ∷ 255 ∷ 255 ∷ 255 ∷ 0 ∷ []); payload = payloads.Nothing } ∷ record { host = 7; target = 0; unit = 0; at = 0; tag = tags.Untagged; cdb = (17 ∷ 0 ∷ 255 ∷ 255 ∷ 255 ∷ 0 ∷ []); payload = payloads.Nothing } ∷ record { host = 7; target = 0; unit = 0; at = 0; tag = tags.Untagged; cdb = (17 ∷ 0 ∷ 255 ∷ 255 ∷ 253 ∷ 0 ∷ []); payload = payloads.Nothing } ∷ record { host = 7; target = 0; unit = 0; at = 0; tag = tags.Untagged; cdb = (17 ∷ 0 ∷ 0 ∷ 0 ∷ 20 ∷ 0 ∷ []); payload = payloads.Nothing } ∷ record { host = 7; target = 0; unit = 0; at = 0; tag = tags.Untagged; cdb = (17 ∷ 3 ∷ 0 ∷ 0 ∷ 0 ∷ 0 ∷ []); payload = payloads.Nothing } ∷ record { host = 7; target = 0; unit = 0; at = 0; tag = tags.Untagged; cdb = (17 ∷ 0 ∷ 0 ∷ 0 ∷ 1 ∷ 0 ∷ []); payload = payloads.Nothing } ∷ record { host = 7; target = 0; unit = 0; at = 0; tag = tags.Untagged; cdb = (17 ∷ 0 ∷ 255 ∷ 255 ∷ 254 ∷ 0 ∷ []); payload = payloads.Nothing } ∷ [];
  aborts = [];
  resets = [];
  faults = [];
}

abbrev space_over_blocks_events : List Event
space_over_blocks_events = events.Accept (command 1) ∷ events.Run (command 1) ∷ events.End (command 1) 0 ∷ events.Accept (command 2) ∷ events.Run (command 2) ∷ events.End (command 2) 2 ∷ events.Accept (sense 2) ∷ events.Run (sense 2) ∷ events.End (sense 2) 0 ∷ events.Accept (command 3) ∷ events.Run (command 3) ∷ events.End (command 3) 0 ∷ events.Accept (command 4) ∷ events.Run (command 4) ∷ events.End (command 4) 0 ∷ events.Accept (command 5) ∷ events.Run (command 5) ∷ events.End (command 5) 2 ∷ events.Accept (sense 5) ∷ events.Run (sense 5) ∷ events.End (sense 5) 0 ∷ events.Accept (command 6) ∷ events.Run (command 6) ∷ events.End (command 6) 2 ∷ events.Accept (sense 6) ∷ events.Run (sense 6) ∷ events.End (sense 6) 0 ∷ events.Accept (command 7) ∷ events.Run (command 7) ∷ events.End (command 7) 2 ∷ events.Accept (sense 7) ∷ events.Run (sense 7) ∷ events.End (sense 7) 0 ∷ events.Accept (command 8) ∷ events.Run (command 8) ∷ events.End (command 8) 0 ∷ events.Accept (command 9) ∷ events.Run (command 9) ∷ events.End (command 9) 2 ∷ events.Accept (sense 9) ∷ events.Run (sense 9) ∷ events.End (sense 9) 0 ∷ events.Accept (command 10) ∷ events.Run (command 10) ∷ events.End (command 10) 2 ∷ events.Accept (sense 10) ∷ events.Run (sense 10) ∷ events.End (sense 10) 0 ∷ []

space_over_blocks_blocks : printed (disks_of (array_after space_over_blocks (reverse space_over_blocks_events))) ≡ printed (started space_over_blocks.units ([]))
unfolding need_of sent_of ones
space_over_blocks_blocks = refl

space_over_blocks_tapes : tapes_of (array_after space_over_blocks (reverse space_over_blocks_events)) ≡ record { count = 12; size = 16; touched = []; reel = Some (record { objects = (block (65 ∷ 65 ∷ 65 ∷ 65 ∷ 65 ∷ 65 ∷ 65 ∷ 65 ∷ 65 ∷ 65 ∷ 65 ∷ 65 ∷ 65 ∷ 65 ∷ 65 ∷ 65 ∷ []) ∷ block (66 ∷ 66 ∷ 66 ∷ 66 ∷ 66 ∷ 66 ∷ 66 ∷ 66 ∷ 66 ∷ 66 ∷ 66 ∷ 66 ∷ 66 ∷ 66 ∷ 66 ∷ 66 ∷ []) ∷ filemark ∷ block (67 ∷ 67 ∷ 67 ∷ 67 ∷ 67 ∷ 67 ∷ 67 ∷ 67 ∷ 67 ∷ 67 ∷ 67 ∷ 67 ∷ 67 ∷ 67 ∷ 67 ∷ 67 ∷ []) ∷ filemark ∷ filemark ∷ block (68 ∷ 68 ∷ 68 ∷ 68 ∷ 68 ∷ 68 ∷ 68 ∷ 68 ∷ 68 ∷ 68 ∷ 68 ∷ 68 ∷ 68 ∷ 68 ∷ 68 ∷ 68 ∷ []) ∷ []); position = 5 }) } ∷ []
unfolding need_of sent_of ones
space_over_blocks_tapes = refl

space_over_blocks_reply_1 : reply_of (array_after space_over_blocks (reverse space_over_blocks_events)) (command 1) ≡ Some (good ([]))
unfolding need_of sent_of ones
space_over_blocks_reply_1 = refl

space_over_blocks_reply_2 : check_in (reply_of (array_after space_over_blocks (reverse space_over_blocks_events)) (command 2)) ≡ Some (record { key = 0; asc = 0; ascq = 1; marks = 128; residue = Some 1 })
unfolding need_of sent_of ones
space_over_blocks_reply_2 = refl

space_over_blocks_reply_3 : reply_of (array_after space_over_blocks (reverse space_over_blocks_events)) (sense 2) ≡ Some (good (240 ∷ 0 ∷ 128 ∷ 0 ∷ 0 ∷ 0 ∷ 1 ∷ 10 ∷ 0 ∷ 0 ∷ 0 ∷ 0 ∷ 0 ∷ 1 ∷ 0 ∷ 0 ∷ 0 ∷ 0 ∷ []))
unfolding need_of sent_of ones
space_over_blocks_reply_3 = refl

space_over_blocks_reply_4 : reply_of (array_after space_over_blocks (reverse space_over_blocks_events)) (command 3) ≡ Some (good ([]))
unfolding need_of sent_of ones
space_over_blocks_reply_4 = refl

space_over_blocks_reply_5 : reply_of (array_after space_over_blocks (reverse space_over_blocks_events)) (command 4) ≡ Some (good ([]))
unfolding need_of sent_of ones
space_over_blocks_reply_5 = refl

space_over_blocks_reply_6 : check_in (reply_of (array_after space_over_blocks (reverse space_over_blocks_events)) (command 5)) ≡ Some (record { key = 0; asc = 0; ascq = 1; marks = 128; residue = Some 1 })
unfolding need_of sent_of ones
space_over_blocks_reply_6 = refl

space_over_blocks_reply_7 : reply_of (array_after space_over_blocks (reverse space_over_blocks_events)) (sense 5) ≡ Some (good (240 ∷ 0 ∷ 128 ∷ 0 ∷ 0 ∷ 0 ∷ 1 ∷ 10 ∷ 0 ∷ 0 ∷ 0 ∷ 0 ∷ 0 ∷ 1 ∷ 0 ∷ 0 ∷ 0 ∷ 0 ∷ []))
unfolding need_of sent_of ones
space_over_blocks_reply_7 = refl

space_over_blocks_reply_8 : check_in (reply_of (array_after space_over_blocks (reverse space_over_blocks_events)) (command 6)) ≡ Some (record { key = 0; asc = 0; ascq = 4; marks = 64; residue = Some 1 })
unfolding need_of sent_of ones
space_over_blocks_reply_8 = refl

space_over_blocks_reply_9 : reply_of (array_after space_over_blocks (reverse space_over_blocks_events)) (sense 6) ≡ Some (good (240 ∷ 0 ∷ 64 ∷ 0 ∷ 0 ∷ 0 ∷ 1 ∷ 10 ∷ 0 ∷ 0 ∷ 0 ∷ 0 ∷ 0 ∷ 4 ∷ 0 ∷ 0 ∷ 0 ∷ 0 ∷ []))
unfolding need_of sent_of ones
space_over_blocks_reply_9 = refl

space_over_blocks_reply_10 : check_in (reply_of (array_after space_over_blocks (reverse space_over_blocks_events)) (command 7)) ≡ Some (record { key = 0; asc = 0; ascq = 1; marks = 128; residue = Some 18 })
unfolding need_of sent_of ones
space_over_blocks_reply_10 = refl

space_over_blocks_reply_11 : reply_of (array_after space_over_blocks (reverse space_over_blocks_events)) (sense 7) ≡ Some (good (240 ∷ 0 ∷ 128 ∷ 0 ∷ 0 ∷ 0 ∷ 18 ∷ 10 ∷ 0 ∷ 0 ∷ 0 ∷ 0 ∷ 0 ∷ 1 ∷ 0 ∷ 0 ∷ 0 ∷ 0 ∷ []))
unfolding need_of sent_of ones
space_over_blocks_reply_11 = refl

space_over_blocks_reply_12 : reply_of (array_after space_over_blocks (reverse space_over_blocks_events)) (command 8) ≡ Some (good ([]))
unfolding need_of sent_of ones
space_over_blocks_reply_12 = refl

space_over_blocks_reply_13 : check_in (reply_of (array_after space_over_blocks (reverse space_over_blocks_events)) (command 9)) ≡ Some (record { key = 8; asc = 0; ascq = 5; marks = 0; residue = Some 1 })
unfolding need_of sent_of ones
space_over_blocks_reply_13 = refl

space_over_blocks_reply_14 : reply_of (array_after space_over_blocks (reverse space_over_blocks_events)) (sense 9) ≡ Some (good (240 ∷ 0 ∷ 8 ∷ 0 ∷ 0 ∷ 0 ∷ 1 ∷ 10 ∷ 0 ∷ 0 ∷ 0 ∷ 0 ∷ 0 ∷ 5 ∷ 0 ∷ 0 ∷ 0 ∷ 0 ∷ []))
unfolding need_of sent_of ones
space_over_blocks_reply_14 = refl

space_over_blocks_reply_15 : check_in (reply_of (array_after space_over_blocks (reverse space_over_blocks_events)) (command 10)) ≡ Some (record { key = 0; asc = 0; ascq = 1; marks = 128; residue = Some 1 })
unfolding need_of sent_of ones
space_over_blocks_reply_15 = refl

space_over_blocks_reply_16 : reply_of (array_after space_over_blocks (reverse space_over_blocks_events)) (sense 10) ≡ Some (good (240 ∷ 0 ∷ 128 ∷ 0 ∷ 0 ∷ 0 ∷ 1 ∷ 10 ∷ 0 ∷ 0 ∷ 0 ∷ 0 ∷ 0 ∷ 1 ∷ 0 ∷ 0 ∷ 0 ∷ 0 ∷ []))
unfolding need_of sent_of ones
space_over_blocks_reply_16 = refl

-- ---- space_over_filemarks

abbrev space_over_filemarks : ScenarioValue
space_over_filemarks = record {
  version = 3;
  hosts = record { dev = 7; latency = 0; most = 1; retries = 2; period = 0; offset = 0; lag = 0; offers = true } ∷ [];
  targets = record { dev = 0; latency = 0; retries = 2; disc = policies.Never; pick = picks.First; seek = 0; period = 0; offset = 0; begins = false } ∷ [];
  units = [];
  fills = [];
  tapes = record { target = 0; unit = 0; objects = 12; size = 16; depth = 1 } ∷ [];
  loads = record { target = 0; unit = 0; what = loads.Block (65 ∷ 65 ∷ 65 ∷ 65 ∷ 65 ∷ 65 ∷ 65 ∷ 65 ∷ 65 ∷ 65 ∷ 65 ∷ 65 ∷ 65 ∷ 65 ∷ 65 ∷ 65 ∷ []) } ∷ record { target = 0; unit = 0; what = loads.Block (66 ∷ 66 ∷ 66 ∷ 66 ∷ 66 ∷ 66 ∷ 66 ∷ 66 ∷ 66 ∷ 66 ∷ 66 ∷ 66 ∷ 66 ∷ 66 ∷ 66 ∷ 66 ∷ []) } ∷ record { target = 0; unit = 0; what = loads.Mark } ∷ record { target = 0; unit = 0; what = loads.Block (67 ∷ 67 ∷ 67 ∷ 67 ∷ 67 ∷ 67 ∷ 67 ∷ 67 ∷ 67 ∷ 67 ∷ 67 ∷ 67 ∷ 67 ∷ 67 ∷ 67 ∷ 67 ∷ []) } ∷ record { target = 0; unit = 0; what = loads.Mark } ∷ record { target = 0; unit = 0; what = loads.Mark } ∷ record { target = 0; unit = 0; what = loads.Block (68 ∷ 68 ∷ 68 ∷ 68 ∷ 68 ∷ 68 ∷ 68 ∷ 68 ∷ 68 ∷ 68 ∷ 68 ∷ 68 ∷ 68 ∷ 68 ∷ 68 ∷ 68 ∷ []) } ∷ [];
  commands = record { host = 7; target = 0; unit = 0; at = 0; tag = tags.Untagged; cdb = (17 ∷ 1 ∷ 0 ∷ 0 ∷ 2 ∷ 0 ∷ []); payload = payloads.Nothing } ∷ record { host = 7; target = 0; unit = 0; at = 0; tag = tags.Untagged; cdb = (17 ∷ 1 ∷ 0 ∷ 0 ∷ 2 ∷ 0 ∷ []); payload = payloads.Nothing } ∷ record { host = 7; target = 0; unit = 0; at = 0; tag = tags.Untagged; cdb = (17 ∷ 1 ∷ 255 ∷ 255 ∷ 255 ∷ 0 ∷ []); payload = payloads.Nothing } ∷ record { host = 7; target = 0; unit = 0; at = 0; tag = tags.Untagged; cdb = (17 ∷ 1 ∷ 255 ∷ 255 ∷ 253 ∷ 0 ∷ []); payload = payloads.Nothing } ∷ record { host = 7; target = 0; unit = 0; at = 0; tag = tags.Untagged; cdb = (17 ∷ 1 ∷ 0 ∷ 0 ∷ 0 ∷ 0 ∷ []); payload = payloads.Nothing } ∷ record { host = 7; target = 0; unit = 0; at = 0; tag = tags.Untagged; cdb = (17 ∷ 0 ∷ 0 ∷ 0 ∷ 0 ∷ 0 ∷ []); payload = payloads.Nothing } ∷ record { host = 7; target = 0; unit = 0; at = 0; tag = tags.Untagged; cdb = (17 ∷ 1 ∷ 255 ∷ 255 ∷ 255 ∷ 0 ∷ []); payload = payloads.Nothing } ∷ record { host = 7; target = 0; unit = 0; at = 0; tag = tags.Untagged; cdb = (17 ∷ 1 ∷ 0 ∷ 0 ∷ 9 ∷ 0 ∷ []); payload = payloads.Nothing } ∷ [];
  aborts = [];
  resets = [];
  faults = [];
}

abbrev space_over_filemarks_events : List Event
space_over_filemarks_events = events.Accept (command 1) ∷ events.Run (command 1) ∷ events.End (command 1) 0 ∷ events.Accept (command 2) ∷ events.Run (command 2) ∷ events.End (command 2) 2 ∷ events.Accept (sense 2) ∷ events.Run (sense 2) ∷ events.End (sense 2) 0 ∷ events.Accept (command 3) ∷ events.Run (command 3) ∷ events.End (command 3) 0 ∷ events.Accept (command 4) ∷ events.Run (command 4) ∷ events.End (command 4) 2 ∷ events.Accept (sense 4) ∷ events.Run (sense 4) ∷ events.End (sense 4) 0 ∷ events.Accept (command 5) ∷ events.Run (command 5) ∷ events.End (command 5) 0 ∷ events.Accept (command 6) ∷ events.Run (command 6) ∷ events.End (command 6) 0 ∷ events.Accept (command 7) ∷ events.Run (command 7) ∷ events.End (command 7) 2 ∷ events.Accept (sense 7) ∷ events.Run (sense 7) ∷ events.End (sense 7) 0 ∷ events.Accept (command 8) ∷ events.Run (command 8) ∷ events.End (command 8) 2 ∷ events.Accept (sense 8) ∷ events.Run (sense 8) ∷ events.End (sense 8) 0 ∷ []

space_over_filemarks_blocks : printed (disks_of (array_after space_over_filemarks (reverse space_over_filemarks_events))) ≡ printed (started space_over_filemarks.units ([]))
unfolding need_of sent_of ones
space_over_filemarks_blocks = refl

space_over_filemarks_tapes : tapes_of (array_after space_over_filemarks (reverse space_over_filemarks_events)) ≡ record { count = 12; size = 16; touched = []; reel = Some (record { objects = (block (65 ∷ 65 ∷ 65 ∷ 65 ∷ 65 ∷ 65 ∷ 65 ∷ 65 ∷ 65 ∷ 65 ∷ 65 ∷ 65 ∷ 65 ∷ 65 ∷ 65 ∷ 65 ∷ []) ∷ block (66 ∷ 66 ∷ 66 ∷ 66 ∷ 66 ∷ 66 ∷ 66 ∷ 66 ∷ 66 ∷ 66 ∷ 66 ∷ 66 ∷ 66 ∷ 66 ∷ 66 ∷ 66 ∷ []) ∷ filemark ∷ block (67 ∷ 67 ∷ 67 ∷ 67 ∷ 67 ∷ 67 ∷ 67 ∷ 67 ∷ 67 ∷ 67 ∷ 67 ∷ 67 ∷ 67 ∷ 67 ∷ 67 ∷ 67 ∷ []) ∷ filemark ∷ filemark ∷ block (68 ∷ 68 ∷ 68 ∷ 68 ∷ 68 ∷ 68 ∷ 68 ∷ 68 ∷ 68 ∷ 68 ∷ 68 ∷ 68 ∷ 68 ∷ 68 ∷ 68 ∷ 68 ∷ []) ∷ []); position = 7 }) } ∷ []
unfolding need_of sent_of ones
space_over_filemarks_tapes = refl

space_over_filemarks_reply_1 : reply_of (array_after space_over_filemarks (reverse space_over_filemarks_events)) (command 1) ≡ Some (good ([]))
unfolding need_of sent_of ones
space_over_filemarks_reply_1 = refl

space_over_filemarks_reply_2 : check_in (reply_of (array_after space_over_filemarks (reverse space_over_filemarks_events)) (command 2)) ≡ Some (record { key = 8; asc = 0; ascq = 5; marks = 0; residue = Some 1 })
unfolding need_of sent_of ones
space_over_filemarks_reply_2 = refl

space_over_filemarks_reply_3 : reply_of (array_after space_over_filemarks (reverse space_over_filemarks_events)) (sense 2) ≡ Some (good (240 ∷ 0 ∷ 8 ∷ 0 ∷ 0 ∷ 0 ∷ 1 ∷ 10 ∷ 0 ∷ 0 ∷ 0 ∷ 0 ∷ 0 ∷ 5 ∷ 0 ∷ 0 ∷ 0 ∷ 0 ∷ []))
unfolding need_of sent_of ones
space_over_filemarks_reply_3 = refl

space_over_filemarks_reply_4 : reply_of (array_after space_over_filemarks (reverse space_over_filemarks_events)) (command 3) ≡ Some (good ([]))
unfolding need_of sent_of ones
space_over_filemarks_reply_4 = refl

space_over_filemarks_reply_5 : check_in (reply_of (array_after space_over_filemarks (reverse space_over_filemarks_events)) (command 4)) ≡ Some (record { key = 0; asc = 0; ascq = 4; marks = 64; residue = Some 1 })
unfolding need_of sent_of ones
space_over_filemarks_reply_5 = refl

space_over_filemarks_reply_6 : reply_of (array_after space_over_filemarks (reverse space_over_filemarks_events)) (sense 4) ≡ Some (good (240 ∷ 0 ∷ 64 ∷ 0 ∷ 0 ∷ 0 ∷ 1 ∷ 10 ∷ 0 ∷ 0 ∷ 0 ∷ 0 ∷ 0 ∷ 4 ∷ 0 ∷ 0 ∷ 0 ∷ 0 ∷ []))
unfolding need_of sent_of ones
space_over_filemarks_reply_6 = refl

space_over_filemarks_reply_7 : reply_of (array_after space_over_filemarks (reverse space_over_filemarks_events)) (command 5) ≡ Some (good ([]))
unfolding need_of sent_of ones
space_over_filemarks_reply_7 = refl

space_over_filemarks_reply_8 : reply_of (array_after space_over_filemarks (reverse space_over_filemarks_events)) (command 6) ≡ Some (good ([]))
unfolding need_of sent_of ones
space_over_filemarks_reply_8 = refl

space_over_filemarks_reply_9 : check_in (reply_of (array_after space_over_filemarks (reverse space_over_filemarks_events)) (command 7)) ≡ Some (record { key = 0; asc = 0; ascq = 4; marks = 64; residue = Some 1 })
unfolding need_of sent_of ones
space_over_filemarks_reply_9 = refl

space_over_filemarks_reply_10 : reply_of (array_after space_over_filemarks (reverse space_over_filemarks_events)) (sense 7) ≡ Some (good (240 ∷ 0 ∷ 64 ∷ 0 ∷ 0 ∷ 0 ∷ 1 ∷ 10 ∷ 0 ∷ 0 ∷ 0 ∷ 0 ∷ 0 ∷ 4 ∷ 0 ∷ 0 ∷ 0 ∷ 0 ∷ []))
unfolding need_of sent_of ones
space_over_filemarks_reply_10 = refl

space_over_filemarks_reply_11 : check_in (reply_of (array_after space_over_filemarks (reverse space_over_filemarks_events)) (command 8)) ≡ Some (record { key = 8; asc = 0; ascq = 5; marks = 0; residue = Some 6 })
unfolding need_of sent_of ones
space_over_filemarks_reply_11 = refl

space_over_filemarks_reply_12 : reply_of (array_after space_over_filemarks (reverse space_over_filemarks_events)) (sense 8) ≡ Some (good (240 ∷ 0 ∷ 8 ∷ 0 ∷ 0 ∷ 0 ∷ 6 ∷ 10 ∷ 0 ∷ 0 ∷ 0 ∷ 0 ∷ 0 ∷ 5 ∷ 0 ∷ 0 ∷ 0 ∷ 0 ∷ []))
unfolding need_of sent_of ones
space_over_filemarks_reply_12 = refl

-- ---- attention_kept

abbrev attention_kept : ScenarioValue
attention_kept = record {
  version = 3;
  hosts = record { dev = 7; latency = 0; most = 1; retries = 2; period = 0; offset = 0; lag = 0; offers = true } ∷ [];
  targets = record { dev = 0; latency = 0; retries = 2; disc = policies.Never; pick = picks.First; seek = 0; period = 0; offset = 0; begins = false } ∷ [];
  units = [];
  fills = [];
  tapes = record { target = 0; unit = 0; objects = 12; size = 16; depth = 1 } ∷ [];
  loads = record { target = 0; unit = 0; what = loads.Block (65 ∷ 65 ∷ 65 ∷ 65 ∷ 65 ∷ 65 ∷ 65 ∷ 65 ∷ 65 ∷ 65 ∷ 65 ∷ 65 ∷ 65 ∷ 65 ∷ 65 ∷ 65 ∷ []) } ∷ record { target = 0; unit = 0; what = loads.Block (66 ∷ 66 ∷ 66 ∷ 66 ∷ 66 ∷ 66 ∷ 66 ∷ 66 ∷ 66 ∷ 66 ∷ 66 ∷ 66 ∷ 66 ∷ 66 ∷ 66 ∷ 66 ∷ []) } ∷ record { target = 0; unit = 0; what = loads.Mark } ∷ record { target = 0; unit = 0; what = loads.Block (67 ∷ 67 ∷ 67 ∷ 67 ∷ 67 ∷ 67 ∷ 67 ∷ 67 ∷ 67 ∷ 67 ∷ 67 ∷ 67 ∷ 67 ∷ 67 ∷ 67 ∷ 67 ∷ []) } ∷ record { target = 0; unit = 0; what = loads.Mark } ∷ record { target = 0; unit = 0; what = loads.Mark } ∷ record { target = 0; unit = 0; what = loads.Block (68 ∷ 68 ∷ 68 ∷ 68 ∷ 68 ∷ 68 ∷ 68 ∷ 68 ∷ 68 ∷ 68 ∷ 68 ∷ 68 ∷ 68 ∷ 68 ∷ 68 ∷ 68 ∷ []) } ∷ [];
  commands = record { host = 7; target = 0; unit = 0; at = 100000; tag = tags.Untagged; cdb = (18 ∷ 0 ∷ 0 ∷ 0 ∷ 36 ∷ 0 ∷ []); payload = payloads.Nothing } ∷ record { host = 7; target = 0; unit = 0; at = 100000; tag = tags.Untagged; cdb = (3 ∷ 0 ∷ 0 ∷ 0 ∷ 18 ∷ 0 ∷ []); payload = payloads.Nothing } ∷ record { host = 7; target = 0; unit = 0; at = 100000; tag = tags.Untagged; cdb = (3 ∷ 1 ∷ 0 ∷ 0 ∷ 18 ∷ 0 ∷ []); payload = payloads.Nothing } ∷ record { host = 7; target = 0; unit = 0; at = 100000; tag = tags.Untagged; cdb = (10 ∷ 1 ∷ 0 ∷ 0 ∷ 1 ∷ 0 ∷ []); payload = payloads.From 0 } ∷ record { host = 7; target = 0; unit = 0; at = 100000; tag = tags.Untagged; cdb = (8 ∷ 1 ∷ 0 ∷ 0 ∷ 1 ∷ 0 ∷ []); payload = payloads.Nothing } ∷ [];
  aborts = [];
  resets = record { dev = 7; at = 50000 } ∷ [];
  faults = [];
}

abbrev attention_kept_events : List Event
attention_kept_events = events.Reset 7 ∷ events.Accept (command 1) ∷ events.Run (command 1) ∷ events.End (command 1) 0 ∷ events.Accept (command 2) ∷ events.Run (command 2) ∷ events.End (command 2) 0 ∷ events.Accept (command 3) ∷ events.Run (command 3) ∷ events.End (command 3) 2 ∷ events.Accept (sense 3) ∷ events.Run (sense 3) ∷ events.End (sense 3) 0 ∷ events.Accept (command 4) ∷ events.Run (command 4) ∷ events.End (command 4) 2 ∷ events.Accept (sense 4) ∷ events.Run (sense 4) ∷ events.End (sense 4) 0 ∷ events.Accept (command 5) ∷ events.Run (command 5) ∷ events.End (command 5) 0 ∷ []

attention_kept_blocks : printed (disks_of (array_after attention_kept (reverse attention_kept_events))) ≡ printed (started attention_kept.units ([]))
unfolding need_of sent_of ones
attention_kept_blocks = refl

attention_kept_tapes : tapes_of (array_after attention_kept (reverse attention_kept_events)) ≡ record { count = 12; size = 16; touched = []; reel = Some (record { objects = (block (65 ∷ 65 ∷ 65 ∷ 65 ∷ 65 ∷ 65 ∷ 65 ∷ 65 ∷ 65 ∷ 65 ∷ 65 ∷ 65 ∷ 65 ∷ 65 ∷ 65 ∷ 65 ∷ []) ∷ block (66 ∷ 66 ∷ 66 ∷ 66 ∷ 66 ∷ 66 ∷ 66 ∷ 66 ∷ 66 ∷ 66 ∷ 66 ∷ 66 ∷ 66 ∷ 66 ∷ 66 ∷ 66 ∷ []) ∷ filemark ∷ block (67 ∷ 67 ∷ 67 ∷ 67 ∷ 67 ∷ 67 ∷ 67 ∷ 67 ∷ 67 ∷ 67 ∷ 67 ∷ 67 ∷ 67 ∷ 67 ∷ 67 ∷ 67 ∷ []) ∷ filemark ∷ filemark ∷ block (68 ∷ 68 ∷ 68 ∷ 68 ∷ 68 ∷ 68 ∷ 68 ∷ 68 ∷ 68 ∷ 68 ∷ 68 ∷ 68 ∷ 68 ∷ 68 ∷ 68 ∷ 68 ∷ []) ∷ []); position = 1 }) } ∷ []
unfolding need_of sent_of ones
attention_kept_tapes = refl

attention_kept_reply_1 : reply_of (array_after attention_kept (reverse attention_kept_events)) (command 1) ≡ Some (good (1 ∷ 128 ∷ 2 ∷ 2 ∷ 31 ∷ 0 ∷ 0 ∷ 18 ∷ 66 ∷ 85 ∷ 83 ∷ 77 ∷ 79 ∷ 68 ∷ 69 ∷ 76 ∷ 83 ∷ 73 ∷ 77 ∷ 85 ∷ 76 ∷ 65 ∷ 84 ∷ 69 ∷ 68 ∷ 32 ∷ 84 ∷ 65 ∷ 80 ∷ 69 ∷ 32 ∷ 32 ∷ 48 ∷ 48 ∷ 48 ∷ 49 ∷ []))
unfolding need_of sent_of ones
attention_kept_reply_1 = refl

attention_kept_reply_2 : reply_of (array_after attention_kept (reverse attention_kept_events)) (command 2) ≡ Some (good (112 ∷ 0 ∷ 0 ∷ 0 ∷ 0 ∷ 0 ∷ 0 ∷ 10 ∷ 0 ∷ 0 ∷ 0 ∷ 0 ∷ 0 ∷ 0 ∷ 0 ∷ 0 ∷ 0 ∷ 0 ∷ []))
unfolding need_of sent_of ones
attention_kept_reply_2 = refl

attention_kept_reply_3 : check_in (reply_of (array_after attention_kept (reverse attention_kept_events)) (command 3)) ≡ Some (sense_of 5 36 0)
unfolding need_of sent_of ones
attention_kept_reply_3 = refl

attention_kept_reply_4 : reply_of (array_after attention_kept (reverse attention_kept_events)) (sense 3) ≡ Some (good (112 ∷ 0 ∷ 5 ∷ 0 ∷ 0 ∷ 0 ∷ 0 ∷ 10 ∷ 0 ∷ 0 ∷ 0 ∷ 0 ∷ 36 ∷ 0 ∷ 0 ∷ 0 ∷ 0 ∷ 0 ∷ []))
unfolding need_of sent_of ones
attention_kept_reply_4 = refl

attention_kept_reply_5 : check_in (reply_of (array_after attention_kept (reverse attention_kept_events)) (command 4)) ≡ Some (sense_of 6 41 0)
unfolding need_of sent_of ones
attention_kept_reply_5 = refl

attention_kept_reply_6 : reply_of (array_after attention_kept (reverse attention_kept_events)) (sense 4) ≡ Some (good (112 ∷ 0 ∷ 6 ∷ 0 ∷ 0 ∷ 0 ∷ 0 ∷ 10 ∷ 0 ∷ 0 ∷ 0 ∷ 0 ∷ 41 ∷ 0 ∷ 0 ∷ 0 ∷ 0 ∷ 0 ∷ []))
unfolding need_of sent_of ones
attention_kept_reply_6 = refl

attention_kept_reply_7 : reply_of (array_after attention_kept (reverse attention_kept_events)) (command 5) ≡ Some (good (65 ∷ 65 ∷ 65 ∷ 65 ∷ 65 ∷ 65 ∷ 65 ∷ 65 ∷ 65 ∷ 65 ∷ 65 ∷ 65 ∷ 65 ∷ 65 ∷ 65 ∷ 65 ∷ []))
unfolding need_of sent_of ones
attention_kept_reply_7 = refl

-- ---- beside_a_disk

abbrev beside_a_disk : ScenarioValue
beside_a_disk = record {
  version = 3;
  hosts = record { dev = 7; latency = 0; most = 2; retries = 2; period = 0; offset = 0; lag = 0; offers = true } ∷ [];
  targets = record { dev = 0; latency = 0; retries = 2; disc = policies.Command; pick = picks.First; seek = 30000; period = 0; offset = 0; begins = false } ∷ [];
  units = record { target = 0; unit = 0; blocks = 4; size = 16; depth = 2 } ∷ [];
  fills = record { target = 0; unit = 0; lba = 1; bytes = (68 ∷ 68 ∷ 68 ∷ 68 ∷ 68 ∷ 68 ∷ 68 ∷ 68 ∷ 68 ∷ 68 ∷ 68 ∷ 68 ∷ 68 ∷ 68 ∷ 68 ∷ 68 ∷ []) } ∷ [];
  tapes = record { target = 0; unit = 1; objects = 12; size = 16; depth = 1 } ∷ [];
  loads = record { target = 0; unit = 1; what = loads.Block (65 ∷ 65 ∷ 65 ∷ 65 ∷ 65 ∷ 65 ∷ 65 ∷ 65 ∷ 65 ∷ 65 ∷ 65 ∷ 65 ∷ 65 ∷ 65 ∷ 65 ∷ 65 ∷ []) } ∷ record { target = 0; unit = 1; what = loads.Block (66 ∷ 66 ∷ 66 ∷ 66 ∷ 66 ∷ 66 ∷ 66 ∷ 66 ∷ 66 ∷ 66 ∷ 66 ∷ 66 ∷ 66 ∷ 66 ∷ 66 ∷ 66 ∷ []) } ∷ record { target = 0; unit = 1; what = loads.Mark } ∷ record { target = 0; unit = 1; what = loads.Block (67 ∷ 67 ∷ 67 ∷ 67 ∷ 67 ∷ 67 ∷ 67 ∷ 67 ∷ 67 ∷ 67 ∷ 67 ∷ 67 ∷ 67 ∷ 67 ∷ 67 ∷ 67 ∷ []) } ∷ record { target = 0; unit = 1; what = loads.Mark } ∷ record { target = 0; unit = 1; what = loads.Mark } ∷ record { target = 0; unit = 1; what = loads.Block (68 ∷ 68 ∷ 68 ∷ 68 ∷ 68 ∷ 68 ∷ 68 ∷ 68 ∷ 68 ∷ 68 ∷ 68 ∷ 68 ∷ 68 ∷ 68 ∷ 68 ∷ 68 ∷ []) } ∷ [];
  commands = record { host = 7; target = 0; unit = 1; at = 0; tag = tags.Simple 1; cdb = (8 ∷ 1 ∷ 0 ∷ 0 ∷ 3 ∷ 0 ∷ []); payload = payloads.Nothing } ∷ record { host = 7; target = 0; unit = 0; at = 0; tag = tags.Simple 2; cdb = (8 ∷ 0 ∷ 0 ∷ 1 ∷ 1 ∷ 0 ∷ []); payload = payloads.Nothing } ∷ record { host = 7; target = 0; unit = 0; at = 0; tag = tags.Simple 1; cdb = (10 ∷ 0 ∷ 0 ∷ 2 ∷ 1 ∷ 0 ∷ []); payload = payloads.From 96 } ∷ [];
  aborts = [];
  resets = [];
  faults = [];
}

abbrev beside_a_disk_events : List Event
beside_a_disk_events = events.Accept (command 1) ∷ events.Accept (command 2) ∷ events.Run (command 1) ∷ events.End (command 1) 2 ∷ events.Accept (sense 1) ∷ events.Run (sense 1) ∷ events.End (sense 1) 0 ∷ events.Accept (command 3) ∷ events.Run (command 2) ∷ events.End (command 2) 0 ∷ events.Run (command 3) ∷ events.End (command 3) 0 ∷ []

beside_a_disk_blocks : printed (disks_of (array_after beside_a_disk (reverse beside_a_disk_events))) ≡ printed (started beside_a_disk.units (record { target = 0; unit = 0; lba = 1; bytes = (68 ∷ 68 ∷ 68 ∷ 68 ∷ 68 ∷ 68 ∷ 68 ∷ 68 ∷ 68 ∷ 68 ∷ 68 ∷ 68 ∷ 68 ∷ 68 ∷ 68 ∷ 68 ∷ []) } ∷ record { target = 0; unit = 0; lba = 2; bytes = (96 ∷ 97 ∷ 98 ∷ 99 ∷ 100 ∷ 101 ∷ 102 ∷ 103 ∷ 104 ∷ 105 ∷ 106 ∷ 107 ∷ 108 ∷ 109 ∷ 110 ∷ 111 ∷ []) } ∷ []))
unfolding need_of sent_of ones
beside_a_disk_blocks = refl

beside_a_disk_tapes : tapes_of (array_after beside_a_disk (reverse beside_a_disk_events)) ≡ record { count = 12; size = 16; touched = []; reel = Some (record { objects = (block (65 ∷ 65 ∷ 65 ∷ 65 ∷ 65 ∷ 65 ∷ 65 ∷ 65 ∷ 65 ∷ 65 ∷ 65 ∷ 65 ∷ 65 ∷ 65 ∷ 65 ∷ 65 ∷ []) ∷ block (66 ∷ 66 ∷ 66 ∷ 66 ∷ 66 ∷ 66 ∷ 66 ∷ 66 ∷ 66 ∷ 66 ∷ 66 ∷ 66 ∷ 66 ∷ 66 ∷ 66 ∷ 66 ∷ []) ∷ filemark ∷ block (67 ∷ 67 ∷ 67 ∷ 67 ∷ 67 ∷ 67 ∷ 67 ∷ 67 ∷ 67 ∷ 67 ∷ 67 ∷ 67 ∷ 67 ∷ 67 ∷ 67 ∷ 67 ∷ []) ∷ filemark ∷ filemark ∷ block (68 ∷ 68 ∷ 68 ∷ 68 ∷ 68 ∷ 68 ∷ 68 ∷ 68 ∷ 68 ∷ 68 ∷ 68 ∷ 68 ∷ 68 ∷ 68 ∷ 68 ∷ 68 ∷ []) ∷ []); position = 3 }) } ∷ []
unfolding need_of sent_of ones
beside_a_disk_tapes = refl

beside_a_disk_reply_1 : check_in (reply_of (array_after beside_a_disk (reverse beside_a_disk_events)) (command 1)) ≡ Some (record { key = 0; asc = 0; ascq = 1; marks = 128; residue = Some 1 })
unfolding need_of sent_of ones
beside_a_disk_reply_1 = refl

beside_a_disk_reply_2 : reply_of (array_after beside_a_disk (reverse beside_a_disk_events)) (sense 1) ≡ Some (good (240 ∷ 0 ∷ 128 ∷ 0 ∷ 0 ∷ 0 ∷ 1 ∷ 10 ∷ 0 ∷ 0 ∷ 0 ∷ 0 ∷ 0 ∷ 1 ∷ 0 ∷ 0 ∷ 0 ∷ 0 ∷ []))
unfolding need_of sent_of ones
beside_a_disk_reply_2 = refl

beside_a_disk_reply_3 : reply_of (array_after beside_a_disk (reverse beside_a_disk_events)) (command 2) ≡ Some (good (68 ∷ 68 ∷ 68 ∷ 68 ∷ 68 ∷ 68 ∷ 68 ∷ 68 ∷ 68 ∷ 68 ∷ 68 ∷ 68 ∷ 68 ∷ 68 ∷ 68 ∷ 68 ∷ []))
unfolding need_of sent_of ones
beside_a_disk_reply_3 = refl

beside_a_disk_reply_4 : reply_of (array_after beside_a_disk (reverse beside_a_disk_events)) (command 3) ≡ Some (good ([]))
unfolding need_of sent_of ones
beside_a_disk_reply_4 = refl

-- ---- conflict_picked_last

abbrev conflict_picked_last : ScenarioValue
conflict_picked_last = record {
  version = 3;
  hosts = record { dev = 7; latency = 0; most = 5; retries = 2; period = 0; offset = 0; lag = 0; offers = true } ∷ [];
  targets = record { dev = 0; latency = 0; retries = 2; disc = policies.Command; pick = picks.Last; seek = 30000; period = 0; offset = 0; begins = false } ∷ [];
  units = [];
  fills = [];
  tapes = record { target = 0; unit = 0; objects = 12; size = 16; depth = 8 } ∷ [];
  loads = record { target = 0; unit = 0; what = loads.Block (65 ∷ 65 ∷ 65 ∷ 65 ∷ 65 ∷ 65 ∷ 65 ∷ 65 ∷ 65 ∷ 65 ∷ 65 ∷ 65 ∷ 65 ∷ 65 ∷ 65 ∷ 65 ∷ []) } ∷ record { target = 0; unit = 0; what = loads.Block (66 ∷ 66 ∷ 66 ∷ 66 ∷ 66 ∷ 66 ∷ 66 ∷ 66 ∷ 66 ∷ 66 ∷ 66 ∷ 66 ∷ 66 ∷ 66 ∷ 66 ∷ 66 ∷ []) } ∷ record { target = 0; unit = 0; what = loads.Mark } ∷ record { target = 0; unit = 0; what = loads.Block (67 ∷ 67 ∷ 67 ∷ 67 ∷ 67 ∷ 67 ∷ 67 ∷ 67 ∷ 67 ∷ 67 ∷ 67 ∷ 67 ∷ 67 ∷ 67 ∷ 67 ∷ 67 ∷ []) } ∷ record { target = 0; unit = 0; what = loads.Mark } ∷ record { target = 0; unit = 0; what = loads.Mark } ∷ record { target = 0; unit = 0; what = loads.Block (68 ∷ 68 ∷ 68 ∷ 68 ∷ 68 ∷ 68 ∷ 68 ∷ 68 ∷ 68 ∷ 68 ∷ 68 ∷ 68 ∷ 68 ∷ 68 ∷ 68 ∷ 68 ∷ []) } ∷ [];
  commands = record { host = 7; target = 0; unit = 0; at = 0; tag = tags.Simple 1; cdb = (8 ∷ 1 ∷ 0 ∷ 0 ∷ 1 ∷ 0 ∷ []); payload = payloads.Nothing } ∷ record { host = 7; target = 0; unit = 0; at = 0; tag = tags.Simple 2; cdb = (8 ∷ 1 ∷ 0 ∷ 0 ∷ 1 ∷ 0 ∷ []); payload = payloads.Nothing } ∷ record { host = 7; target = 0; unit = 0; at = 0; tag = tags.Simple 3; cdb = (1 ∷ 0 ∷ 0 ∷ 0 ∷ 0 ∷ 0 ∷ []); payload = payloads.Nothing } ∷ record { host = 7; target = 0; unit = 0; at = 0; tag = tags.Simple 4; cdb = (8 ∷ 1 ∷ 0 ∷ 0 ∷ 1 ∷ 0 ∷ []); payload = payloads.Nothing } ∷ [];
  aborts = [];
  resets = [];
  faults = [];
}

abbrev conflict_picked_last_events : List Event
conflict_picked_last_events = events.Accept (command 1) ∷ events.Accept (command 2) ∷ events.Accept (command 3) ∷ events.Accept (command 4) ∷ events.Run (command 1) ∷ events.End (command 1) 0 ∷ events.Run (command 2) ∷ events.End (command 2) 0 ∷ events.Run (command 3) ∷ events.End (command 3) 0 ∷ events.Run (command 4) ∷ events.End (command 4) 0 ∷ []

conflict_picked_last_blocks : printed (disks_of (array_after conflict_picked_last (reverse conflict_picked_last_events))) ≡ printed (started conflict_picked_last.units ([]))
unfolding need_of sent_of ones
conflict_picked_last_blocks = refl

conflict_picked_last_tapes : tapes_of (array_after conflict_picked_last (reverse conflict_picked_last_events)) ≡ record { count = 12; size = 16; touched = []; reel = Some (record { objects = (block (65 ∷ 65 ∷ 65 ∷ 65 ∷ 65 ∷ 65 ∷ 65 ∷ 65 ∷ 65 ∷ 65 ∷ 65 ∷ 65 ∷ 65 ∷ 65 ∷ 65 ∷ 65 ∷ []) ∷ block (66 ∷ 66 ∷ 66 ∷ 66 ∷ 66 ∷ 66 ∷ 66 ∷ 66 ∷ 66 ∷ 66 ∷ 66 ∷ 66 ∷ 66 ∷ 66 ∷ 66 ∷ 66 ∷ []) ∷ filemark ∷ block (67 ∷ 67 ∷ 67 ∷ 67 ∷ 67 ∷ 67 ∷ 67 ∷ 67 ∷ 67 ∷ 67 ∷ 67 ∷ 67 ∷ 67 ∷ 67 ∷ 67 ∷ 67 ∷ []) ∷ filemark ∷ filemark ∷ block (68 ∷ 68 ∷ 68 ∷ 68 ∷ 68 ∷ 68 ∷ 68 ∷ 68 ∷ 68 ∷ 68 ∷ 68 ∷ 68 ∷ 68 ∷ 68 ∷ 68 ∷ 68 ∷ []) ∷ []); position = 1 }) } ∷ []
unfolding need_of sent_of ones
conflict_picked_last_tapes = refl

conflict_picked_last_reply_1 : reply_of (array_after conflict_picked_last (reverse conflict_picked_last_events)) (command 1) ≡ Some (good (65 ∷ 65 ∷ 65 ∷ 65 ∷ 65 ∷ 65 ∷ 65 ∷ 65 ∷ 65 ∷ 65 ∷ 65 ∷ 65 ∷ 65 ∷ 65 ∷ 65 ∷ 65 ∷ []))
unfolding need_of sent_of ones
conflict_picked_last_reply_1 = refl

conflict_picked_last_reply_2 : reply_of (array_after conflict_picked_last (reverse conflict_picked_last_events)) (command 2) ≡ Some (good (66 ∷ 66 ∷ 66 ∷ 66 ∷ 66 ∷ 66 ∷ 66 ∷ 66 ∷ 66 ∷ 66 ∷ 66 ∷ 66 ∷ 66 ∷ 66 ∷ 66 ∷ 66 ∷ []))
unfolding need_of sent_of ones
conflict_picked_last_reply_2 = refl

conflict_picked_last_reply_3 : reply_of (array_after conflict_picked_last (reverse conflict_picked_last_events)) (command 3) ≡ Some (good ([]))
unfolding need_of sent_of ones
conflict_picked_last_reply_3 = refl

conflict_picked_last_reply_4 : reply_of (array_after conflict_picked_last (reverse conflict_picked_last_events)) (command 4) ≡ Some (good (65 ∷ 65 ∷ 65 ∷ 65 ∷ 65 ∷ 65 ∷ 65 ∷ 65 ∷ 65 ∷ 65 ∷ 65 ∷ 65 ∷ 65 ∷ 65 ∷ 65 ∷ 65 ∷ []))
unfolding need_of sent_of ones
conflict_picked_last_reply_4 = refl

-- ---- device_reset

abbrev device_reset : ScenarioValue
device_reset = record {
  version = 3;
  hosts = record { dev = 7; latency = 0; most = 3; retries = 2; period = 0; offset = 0; lag = 0; offers = true } ∷ [];
  targets = record { dev = 0; latency = 0; retries = 2; disc = policies.Command; pick = picks.First; seek = 30000; period = 0; offset = 0; begins = false } ∷ [];
  units = [];
  fills = [];
  tapes = record { target = 0; unit = 0; objects = 12; size = 16; depth = 8 } ∷ [];
  loads = record { target = 0; unit = 0; what = loads.Block (65 ∷ 65 ∷ 65 ∷ 65 ∷ 65 ∷ 65 ∷ 65 ∷ 65 ∷ 65 ∷ 65 ∷ 65 ∷ 65 ∷ 65 ∷ 65 ∷ 65 ∷ 65 ∷ []) } ∷ record { target = 0; unit = 0; what = loads.Block (66 ∷ 66 ∷ 66 ∷ 66 ∷ 66 ∷ 66 ∷ 66 ∷ 66 ∷ 66 ∷ 66 ∷ 66 ∷ 66 ∷ 66 ∷ 66 ∷ 66 ∷ 66 ∷ []) } ∷ record { target = 0; unit = 0; what = loads.Mark } ∷ record { target = 0; unit = 0; what = loads.Block (67 ∷ 67 ∷ 67 ∷ 67 ∷ 67 ∷ 67 ∷ 67 ∷ 67 ∷ 67 ∷ 67 ∷ 67 ∷ 67 ∷ 67 ∷ 67 ∷ 67 ∷ 67 ∷ []) } ∷ record { target = 0; unit = 0; what = loads.Mark } ∷ record { target = 0; unit = 0; what = loads.Mark } ∷ record { target = 0; unit = 0; what = loads.Block (68 ∷ 68 ∷ 68 ∷ 68 ∷ 68 ∷ 68 ∷ 68 ∷ 68 ∷ 68 ∷ 68 ∷ 68 ∷ 68 ∷ 68 ∷ 68 ∷ 68 ∷ 68 ∷ []) } ∷ [];
  commands = record { host = 7; target = 0; unit = 0; at = 0; tag = tags.Simple 1; cdb = (8 ∷ 1 ∷ 0 ∷ 0 ∷ 1 ∷ 0 ∷ []); payload = payloads.Nothing } ∷ record { host = 7; target = 0; unit = 0; at = 60000; tag = tags.Simple 2; cdb = (8 ∷ 1 ∷ 0 ∷ 0 ∷ 1 ∷ 0 ∷ []); payload = payloads.Nothing } ∷ record { host = 7; target = 0; unit = 0; at = 150000; tag = tags.Simple 3; cdb = (8 ∷ 1 ∷ 0 ∷ 0 ∷ 1 ∷ 0 ∷ []); payload = payloads.Nothing } ∷ record { host = 7; target = 0; unit = 0; at = 150000; tag = tags.Simple 4; cdb = (8 ∷ 1 ∷ 0 ∷ 0 ∷ 2 ∷ 0 ∷ []); payload = payloads.Nothing } ∷ [];
  aborts = record { host = 7; target = 0; unit = 0; at = 62000; what = aborts.Device } ∷ [];
  resets = [];
  faults = [];
}

abbrev device_reset_events : List Event
device_reset_events = events.Accept (command 1) ∷ events.Run (command 1) ∷ events.End (command 1) 0 ∷ events.Accept (command 2) ∷ events.Aborted 7 0 0 aborts.Device ∷ events.Accept (command 3) ∷ events.Accept (command 4) ∷ events.Run (command 3) ∷ events.End (command 3) 2 ∷ events.Accept (sense 3) ∷ events.Run (sense 3) ∷ events.End (sense 3) 0 ∷ events.Run (command 4) ∷ events.End (command 4) 2 ∷ events.Accept (sense 4) ∷ events.Run (sense 4) ∷ events.End (sense 4) 0 ∷ []

device_reset_blocks : printed (disks_of (array_after device_reset (reverse device_reset_events))) ≡ printed (started device_reset.units ([]))
unfolding need_of sent_of ones
device_reset_blocks = refl

device_reset_tapes : tapes_of (array_after device_reset (reverse device_reset_events)) ≡ record { count = 12; size = 16; touched = []; reel = Some (record { objects = (block (65 ∷ 65 ∷ 65 ∷ 65 ∷ 65 ∷ 65 ∷ 65 ∷ 65 ∷ 65 ∷ 65 ∷ 65 ∷ 65 ∷ 65 ∷ 65 ∷ 65 ∷ 65 ∷ []) ∷ block (66 ∷ 66 ∷ 66 ∷ 66 ∷ 66 ∷ 66 ∷ 66 ∷ 66 ∷ 66 ∷ 66 ∷ 66 ∷ 66 ∷ 66 ∷ 66 ∷ 66 ∷ 66 ∷ []) ∷ filemark ∷ block (67 ∷ 67 ∷ 67 ∷ 67 ∷ 67 ∷ 67 ∷ 67 ∷ 67 ∷ 67 ∷ 67 ∷ 67 ∷ 67 ∷ 67 ∷ 67 ∷ 67 ∷ 67 ∷ []) ∷ filemark ∷ filemark ∷ block (68 ∷ 68 ∷ 68 ∷ 68 ∷ 68 ∷ 68 ∷ 68 ∷ 68 ∷ 68 ∷ 68 ∷ 68 ∷ 68 ∷ 68 ∷ 68 ∷ 68 ∷ 68 ∷ []) ∷ []); position = 3 }) } ∷ []
unfolding need_of sent_of ones
device_reset_tapes = refl

device_reset_reply_1 : reply_of (array_after device_reset (reverse device_reset_events)) (command 1) ≡ Some (good (65 ∷ 65 ∷ 65 ∷ 65 ∷ 65 ∷ 65 ∷ 65 ∷ 65 ∷ 65 ∷ 65 ∷ 65 ∷ 65 ∷ 65 ∷ 65 ∷ 65 ∷ 65 ∷ []))
unfolding need_of sent_of ones
device_reset_reply_1 = refl

device_reset_reply_2 : check_in (reply_of (array_after device_reset (reverse device_reset_events)) (command 3)) ≡ Some (sense_of 6 41 0)
unfolding need_of sent_of ones
device_reset_reply_2 = refl

device_reset_reply_3 : reply_of (array_after device_reset (reverse device_reset_events)) (sense 3) ≡ Some (good (112 ∷ 0 ∷ 6 ∷ 0 ∷ 0 ∷ 0 ∷ 0 ∷ 10 ∷ 0 ∷ 0 ∷ 0 ∷ 0 ∷ 41 ∷ 0 ∷ 0 ∷ 0 ∷ 0 ∷ 0 ∷ []))
unfolding need_of sent_of ones
device_reset_reply_3 = refl

device_reset_reply_4 : check_in (reply_of (array_after device_reset (reverse device_reset_events)) (command 4)) ≡ Some (record { key = 0; asc = 0; ascq = 1; marks = 128; residue = Some 1 })
unfolding need_of sent_of ones
device_reset_reply_4 = refl

device_reset_reply_5 : reply_of (array_after device_reset (reverse device_reset_events)) (sense 4) ≡ Some (good (240 ∷ 0 ∷ 128 ∷ 0 ∷ 0 ∷ 0 ∷ 1 ∷ 10 ∷ 0 ∷ 0 ∷ 0 ∷ 0 ∷ 0 ∷ 1 ∷ 0 ∷ 0 ∷ 0 ∷ 0 ∷ []))
unfolding need_of sent_of ones
device_reset_reply_5 = refl

-- ---- hold

abbrev hold : ScenarioValue
hold = record {
  version = 3;
  hosts = record { dev = 7; latency = 0; most = 2; retries = 2; period = 0; offset = 0; lag = 0; offers = true } ∷ record { dev = 6; latency = 0; most = 2; retries = 2; period = 0; offset = 0; lag = 0; offers = true } ∷ [];
  targets = record { dev = 0; latency = 0; retries = 2; disc = policies.Command; pick = picks.First; seek = 30000; period = 0; offset = 0; begins = false } ∷ [];
  units = [];
  fills = [];
  tapes = record { target = 0; unit = 0; objects = 12; size = 16; depth = 8 } ∷ [];
  loads = record { target = 0; unit = 0; what = loads.Block (65 ∷ 65 ∷ 65 ∷ 65 ∷ 65 ∷ 65 ∷ 65 ∷ 65 ∷ 65 ∷ 65 ∷ 65 ∷ 65 ∷ 65 ∷ 65 ∷ 65 ∷ 65 ∷ []) } ∷ record { target = 0; unit = 0; what = loads.Block (66 ∷ 66 ∷ 66 ∷ 66 ∷ 66 ∷ 66 ∷ 66 ∷ 66 ∷ 66 ∷ 66 ∷ 66 ∷ 66 ∷ 66 ∷ 66 ∷ 66 ∷ 66 ∷ []) } ∷ record { target = 0; unit = 0; what = loads.Mark } ∷ record { target = 0; unit = 0; what = loads.Block (67 ∷ 67 ∷ 67 ∷ 67 ∷ 67 ∷ 67 ∷ 67 ∷ 67 ∷ 67 ∷ 67 ∷ 67 ∷ 67 ∷ 67 ∷ 67 ∷ 67 ∷ 67 ∷ []) } ∷ record { target = 0; unit = 0; what = loads.Mark } ∷ record { target = 0; unit = 0; what = loads.Mark } ∷ record { target = 0; unit = 0; what = loads.Block (68 ∷ 68 ∷ 68 ∷ 68 ∷ 68 ∷ 68 ∷ 68 ∷ 68 ∷ 68 ∷ 68 ∷ 68 ∷ 68 ∷ 68 ∷ 68 ∷ 68 ∷ 68 ∷ []) } ∷ [];
  commands = record { host = 7; target = 0; unit = 0; at = 0; tag = tags.Simple 1; cdb = (17 ∷ 0 ∷ 0 ∷ 0 ∷ 3 ∷ 0 ∷ []); payload = payloads.Nothing } ∷ record { host = 6; target = 0; unit = 0; at = 0; tag = tags.Simple 1; cdb = (8 ∷ 1 ∷ 0 ∷ 0 ∷ 1 ∷ 0 ∷ []); payload = payloads.Nothing } ∷ record { host = 7; target = 0; unit = 0; at = 0; tag = tags.Simple 2; cdb = (8 ∷ 1 ∷ 0 ∷ 0 ∷ 1 ∷ 0 ∷ []); payload = payloads.Nothing } ∷ [];
  aborts = [];
  resets = [];
  faults = [];
}

abbrev hold_events : List Event
hold_events = events.Accept (command 1) ∷ events.Accept (command 3) ∷ events.Accept (command 2) ∷ events.Run (command 1) ∷ events.End (command 1) 2 ∷ events.Accept (sense 1) ∷ events.Run (sense 1) ∷ events.End (sense 1) 0 ∷ events.Run (command 3) ∷ events.End (command 3) 0 ∷ events.Run (command 2) ∷ events.End (command 2) 2 ∷ events.Accept (sense 2) ∷ events.Run (sense 2) ∷ events.End (sense 2) 0 ∷ []

hold_blocks : printed (disks_of (array_after hold (reverse hold_events))) ≡ printed (started hold.units ([]))
unfolding need_of sent_of ones
hold_blocks = refl

hold_tapes : tapes_of (array_after hold (reverse hold_events)) ≡ record { count = 12; size = 16; touched = []; reel = Some (record { objects = (block (65 ∷ 65 ∷ 65 ∷ 65 ∷ 65 ∷ 65 ∷ 65 ∷ 65 ∷ 65 ∷ 65 ∷ 65 ∷ 65 ∷ 65 ∷ 65 ∷ 65 ∷ 65 ∷ []) ∷ block (66 ∷ 66 ∷ 66 ∷ 66 ∷ 66 ∷ 66 ∷ 66 ∷ 66 ∷ 66 ∷ 66 ∷ 66 ∷ 66 ∷ 66 ∷ 66 ∷ 66 ∷ 66 ∷ []) ∷ filemark ∷ block (67 ∷ 67 ∷ 67 ∷ 67 ∷ 67 ∷ 67 ∷ 67 ∷ 67 ∷ 67 ∷ 67 ∷ 67 ∷ 67 ∷ 67 ∷ 67 ∷ 67 ∷ 67 ∷ []) ∷ filemark ∷ filemark ∷ block (68 ∷ 68 ∷ 68 ∷ 68 ∷ 68 ∷ 68 ∷ 68 ∷ 68 ∷ 68 ∷ 68 ∷ 68 ∷ 68 ∷ 68 ∷ 68 ∷ 68 ∷ 68 ∷ []) ∷ []); position = 5 }) } ∷ []
unfolding need_of sent_of ones
hold_tapes = refl

hold_reply_1 : check_in (reply_of (array_after hold (reverse hold_events)) (command 1)) ≡ Some (record { key = 0; asc = 0; ascq = 1; marks = 128; residue = Some 1 })
unfolding need_of sent_of ones
hold_reply_1 = refl

hold_reply_2 : reply_of (array_after hold (reverse hold_events)) (sense 1) ≡ Some (good (240 ∷ 0 ∷ 128 ∷ 0 ∷ 0 ∷ 0 ∷ 1 ∷ 10 ∷ 0 ∷ 0 ∷ 0 ∷ 0 ∷ 0 ∷ 1 ∷ 0 ∷ 0 ∷ 0 ∷ 0 ∷ []))
unfolding need_of sent_of ones
hold_reply_2 = refl

hold_reply_3 : check_in (reply_of (array_after hold (reverse hold_events)) (command 2)) ≡ Some (record { key = 0; asc = 0; ascq = 1; marks = 128; residue = Some 1 })
unfolding need_of sent_of ones
hold_reply_3 = refl

hold_reply_4 : reply_of (array_after hold (reverse hold_events)) (sense 2) ≡ Some (good (240 ∷ 0 ∷ 128 ∷ 0 ∷ 0 ∷ 0 ∷ 1 ∷ 10 ∷ 0 ∷ 0 ∷ 0 ∷ 0 ∷ 0 ∷ 1 ∷ 0 ∷ 0 ∷ 0 ∷ 0 ∷ []))
unfolding need_of sent_of ones
hold_reply_4 = refl

hold_reply_5 : reply_of (array_after hold (reverse hold_events)) (command 3) ≡ Some (good (67 ∷ 67 ∷ 67 ∷ 67 ∷ 67 ∷ 67 ∷ 67 ∷ 67 ∷ 67 ∷ 67 ∷ 67 ∷ 67 ∷ 67 ∷ 67 ∷ 67 ∷ 67 ∷ []))
unfolding need_of sent_of ones
hold_reply_5 = refl

-- ---- inquiry_and_absent_unit

abbrev inquiry_and_absent_unit : ScenarioValue
inquiry_and_absent_unit = record {
  version = 3;
  hosts = record { dev = 7; latency = 0; most = 1; retries = 2; period = 0; offset = 0; lag = 0; offers = true } ∷ [];
  targets = record { dev = 0; latency = 0; retries = 2; disc = policies.Never; pick = picks.First; seek = 0; period = 0; offset = 0; begins = false } ∷ [];
  units = [];
  fills = [];
  tapes = record { target = 0; unit = 0; objects = 12; size = 16; depth = 1 } ∷ [];
  loads = record { target = 0; unit = 0; what = loads.Block (65 ∷ 65 ∷ 65 ∷ 65 ∷ 65 ∷ 65 ∷ 65 ∷ 65 ∷ 65 ∷ 65 ∷ 65 ∷ 65 ∷ 65 ∷ 65 ∷ 65 ∷ 65 ∷ []) } ∷ record { target = 0; unit = 0; what = loads.Block (66 ∷ 66 ∷ 66 ∷ 66 ∷ 66 ∷ 66 ∷ 66 ∷ 66 ∷ 66 ∷ 66 ∷ 66 ∷ 66 ∷ 66 ∷ 66 ∷ 66 ∷ 66 ∷ []) } ∷ record { target = 0; unit = 0; what = loads.Mark } ∷ record { target = 0; unit = 0; what = loads.Block (67 ∷ 67 ∷ 67 ∷ 67 ∷ 67 ∷ 67 ∷ 67 ∷ 67 ∷ 67 ∷ 67 ∷ 67 ∷ 67 ∷ 67 ∷ 67 ∷ 67 ∷ 67 ∷ []) } ∷ record { target = 0; unit = 0; what = loads.Mark } ∷ record { target = 0; unit = 0; what = loads.Mark } ∷ record { target = 0; unit = 0; what = loads.Block (68 ∷ 68 ∷ 68 ∷ 68 ∷ 68 ∷ 68 ∷ 68 ∷ 68 ∷ 68 ∷ 68 ∷ 68 ∷ 68 ∷ 68 ∷ 68 ∷ 68 ∷ 68 ∷ []) } ∷ [];
  commands = record { host = 7; target = 0; unit = 0; at = 0; tag = tags.Untagged; cdb = (18 ∷ 0 ∷ 0 ∷ 0 ∷ 36 ∷ 0 ∷ []); payload = payloads.Nothing } ∷ record { host = 7; target = 0; unit = 0; at = 0; tag = tags.Untagged; cdb = (18 ∷ 0 ∷ 0 ∷ 0 ∷ 5 ∷ 0 ∷ []); payload = payloads.Nothing } ∷ record { host = 7; target = 0; unit = 0; at = 0; tag = tags.Untagged; cdb = (18 ∷ 0 ∷ 0 ∷ 0 ∷ 0 ∷ 0 ∷ []); payload = payloads.Nothing } ∷ record { host = 7; target = 0; unit = 0; at = 0; tag = tags.Untagged; cdb = (3 ∷ 0 ∷ 0 ∷ 0 ∷ 18 ∷ 0 ∷ []); payload = payloads.Nothing } ∷ record { host = 7; target = 0; unit = 0; at = 0; tag = tags.Untagged; cdb = (3 ∷ 0 ∷ 0 ∷ 0 ∷ 7 ∷ 0 ∷ []); payload = payloads.Nothing } ∷ record { host = 7; target = 0; unit = 1; at = 0; tag = tags.Untagged; cdb = (18 ∷ 0 ∷ 0 ∷ 0 ∷ 36 ∷ 0 ∷ []); payload = payloads.Nothing } ∷ record { host = 7; target = 0; unit = 1; at = 0; tag = tags.Untagged; cdb = (0 ∷ 0 ∷ 0 ∷ 0 ∷ 0 ∷ 0 ∷ []); payload = payloads.Nothing } ∷ record { host = 7; target = 0; unit = 1; at = 0; tag = tags.Untagged; cdb = (8 ∷ 1 ∷ 0 ∷ 0 ∷ 1 ∷ 0 ∷ []); payload = payloads.Nothing } ∷ record { host = 7; target = 0; unit = 1; at = 0; tag = tags.Untagged; cdb = (17 ∷ 0 ∷ 0 ∷ 0 ∷ 1 ∷ 0 ∷ []); payload = payloads.Nothing } ∷ record { host = 7; target = 0; unit = 1; at = 0; tag = tags.Untagged; cdb = (3 ∷ 0 ∷ 0 ∷ 0 ∷ 18 ∷ 0 ∷ []); payload = payloads.Nothing } ∷ record { host = 7; target = 0; unit = 1; at = 0; tag = tags.Untagged; cdb = (10 ∷ 1 ∷ 0 ∷ 0 ∷ 1 ∷ 0 ∷ []); payload = payloads.Nothing } ∷ [];
  aborts = [];
  resets = [];
  faults = [];
}

abbrev inquiry_and_absent_unit_events : List Event
inquiry_and_absent_unit_events = events.Accept (command 1) ∷ events.Run (command 1) ∷ events.End (command 1) 0 ∷ events.Accept (command 2) ∷ events.Run (command 2) ∷ events.End (command 2) 0 ∷ events.Accept (command 3) ∷ events.Run (command 3) ∷ events.End (command 3) 0 ∷ events.Accept (command 4) ∷ events.Run (command 4) ∷ events.End (command 4) 0 ∷ events.Accept (command 5) ∷ events.Run (command 5) ∷ events.End (command 5) 0 ∷ events.Accept (command 6) ∷ events.Run (command 6) ∷ events.End (command 6) 0 ∷ events.Accept (command 7) ∷ events.Run (command 7) ∷ events.End (command 7) 2 ∷ events.Accept (sense 7) ∷ events.Run (sense 7) ∷ events.End (sense 7) 0 ∷ events.Accept (command 8) ∷ events.Run (command 8) ∷ events.End (command 8) 2 ∷ events.Accept (sense 8) ∷ events.Run (sense 8) ∷ events.End (sense 8) 0 ∷ events.Accept (command 9) ∷ events.Run (command 9) ∷ events.End (command 9) 2 ∷ events.Accept (sense 9) ∷ events.Run (sense 9) ∷ events.End (sense 9) 0 ∷ events.Accept (command 10) ∷ events.Run (command 10) ∷ events.End (command 10) 0 ∷ events.Accept (command 11) ∷ events.Run (command 11) ∷ events.End (command 11) 2 ∷ events.Accept (sense 11) ∷ events.Run (sense 11) ∷ events.End (sense 11) 0 ∷ []

inquiry_and_absent_unit_blocks : printed (disks_of (array_after inquiry_and_absent_unit (reverse inquiry_and_absent_unit_events))) ≡ printed (started inquiry_and_absent_unit.units ([]))
unfolding need_of sent_of ones
inquiry_and_absent_unit_blocks = refl

inquiry_and_absent_unit_tapes : tapes_of (array_after inquiry_and_absent_unit (reverse inquiry_and_absent_unit_events)) ≡ record { count = 12; size = 16; touched = []; reel = Some (record { objects = (block (65 ∷ 65 ∷ 65 ∷ 65 ∷ 65 ∷ 65 ∷ 65 ∷ 65 ∷ 65 ∷ 65 ∷ 65 ∷ 65 ∷ 65 ∷ 65 ∷ 65 ∷ 65 ∷ []) ∷ block (66 ∷ 66 ∷ 66 ∷ 66 ∷ 66 ∷ 66 ∷ 66 ∷ 66 ∷ 66 ∷ 66 ∷ 66 ∷ 66 ∷ 66 ∷ 66 ∷ 66 ∷ 66 ∷ []) ∷ filemark ∷ block (67 ∷ 67 ∷ 67 ∷ 67 ∷ 67 ∷ 67 ∷ 67 ∷ 67 ∷ 67 ∷ 67 ∷ 67 ∷ 67 ∷ 67 ∷ 67 ∷ 67 ∷ 67 ∷ []) ∷ filemark ∷ filemark ∷ block (68 ∷ 68 ∷ 68 ∷ 68 ∷ 68 ∷ 68 ∷ 68 ∷ 68 ∷ 68 ∷ 68 ∷ 68 ∷ 68 ∷ 68 ∷ 68 ∷ 68 ∷ 68 ∷ []) ∷ []); position = 0 }) } ∷ []
unfolding need_of sent_of ones
inquiry_and_absent_unit_tapes = refl

inquiry_and_absent_unit_reply_1 : reply_of (array_after inquiry_and_absent_unit (reverse inquiry_and_absent_unit_events)) (command 1) ≡ Some (good (1 ∷ 128 ∷ 2 ∷ 2 ∷ 31 ∷ 0 ∷ 0 ∷ 18 ∷ 66 ∷ 85 ∷ 83 ∷ 77 ∷ 79 ∷ 68 ∷ 69 ∷ 76 ∷ 83 ∷ 73 ∷ 77 ∷ 85 ∷ 76 ∷ 65 ∷ 84 ∷ 69 ∷ 68 ∷ 32 ∷ 84 ∷ 65 ∷ 80 ∷ 69 ∷ 32 ∷ 32 ∷ 48 ∷ 48 ∷ 48 ∷ 49 ∷ []))
unfolding need_of sent_of ones
inquiry_and_absent_unit_reply_1 = refl

inquiry_and_absent_unit_reply_2 : reply_of (array_after inquiry_and_absent_unit (reverse inquiry_and_absent_unit_events)) (command 2) ≡ Some (good (1 ∷ 128 ∷ 2 ∷ 2 ∷ 31 ∷ []))
unfolding need_of sent_of ones
inquiry_and_absent_unit_reply_2 = refl

inquiry_and_absent_unit_reply_3 : reply_of (array_after inquiry_and_absent_unit (reverse inquiry_and_absent_unit_events)) (command 3) ≡ Some (good ([]))
unfolding need_of sent_of ones
inquiry_and_absent_unit_reply_3 = refl

inquiry_and_absent_unit_reply_4 : reply_of (array_after inquiry_and_absent_unit (reverse inquiry_and_absent_unit_events)) (command 4) ≡ Some (good (112 ∷ 0 ∷ 0 ∷ 0 ∷ 0 ∷ 0 ∷ 0 ∷ 10 ∷ 0 ∷ 0 ∷ 0 ∷ 0 ∷ 0 ∷ 0 ∷ 0 ∷ 0 ∷ 0 ∷ 0 ∷ []))
unfolding need_of sent_of ones
inquiry_and_absent_unit_reply_4 = refl

inquiry_and_absent_unit_reply_5 : reply_of (array_after inquiry_and_absent_unit (reverse inquiry_and_absent_unit_events)) (command 5) ≡ Some (good (112 ∷ 0 ∷ 0 ∷ 0 ∷ 0 ∷ 0 ∷ 0 ∷ []))
unfolding need_of sent_of ones
inquiry_and_absent_unit_reply_5 = refl

inquiry_and_absent_unit_reply_6 : reply_of (array_after inquiry_and_absent_unit (reverse inquiry_and_absent_unit_events)) (command 6) ≡ Some (good (127 ∷ 0 ∷ 2 ∷ 2 ∷ 31 ∷ 0 ∷ 0 ∷ 18 ∷ 66 ∷ 85 ∷ 83 ∷ 77 ∷ 79 ∷ 68 ∷ 69 ∷ 76 ∷ 83 ∷ 73 ∷ 77 ∷ 85 ∷ 76 ∷ 65 ∷ 84 ∷ 69 ∷ 68 ∷ 32 ∷ 68 ∷ 73 ∷ 83 ∷ 75 ∷ 32 ∷ 32 ∷ 48 ∷ 48 ∷ 48 ∷ 49 ∷ []))
unfolding need_of sent_of ones
inquiry_and_absent_unit_reply_6 = refl

inquiry_and_absent_unit_reply_7 : reply_of (array_after inquiry_and_absent_unit (reverse inquiry_and_absent_unit_events)) (command 7) ≡ Some (check_condition (sense_of 5 37 0))
unfolding need_of sent_of ones
inquiry_and_absent_unit_reply_7 = refl

inquiry_and_absent_unit_reply_8 : reply_of (array_after inquiry_and_absent_unit (reverse inquiry_and_absent_unit_events)) (sense 7) ≡ Some (good (112 ∷ 0 ∷ 5 ∷ 0 ∷ 0 ∷ 0 ∷ 0 ∷ 10 ∷ 0 ∷ 0 ∷ 0 ∷ 0 ∷ 37 ∷ 0 ∷ 0 ∷ 0 ∷ 0 ∷ 0 ∷ []))
unfolding need_of sent_of ones
inquiry_and_absent_unit_reply_8 = refl

inquiry_and_absent_unit_reply_9 : reply_of (array_after inquiry_and_absent_unit (reverse inquiry_and_absent_unit_events)) (command 8) ≡ Some (check_condition (sense_of 5 37 0))
unfolding need_of sent_of ones
inquiry_and_absent_unit_reply_9 = refl

inquiry_and_absent_unit_reply_10 : reply_of (array_after inquiry_and_absent_unit (reverse inquiry_and_absent_unit_events)) (sense 8) ≡ Some (good (112 ∷ 0 ∷ 5 ∷ 0 ∷ 0 ∷ 0 ∷ 0 ∷ 10 ∷ 0 ∷ 0 ∷ 0 ∷ 0 ∷ 37 ∷ 0 ∷ 0 ∷ 0 ∷ 0 ∷ 0 ∷ []))
unfolding need_of sent_of ones
inquiry_and_absent_unit_reply_10 = refl

inquiry_and_absent_unit_reply_11 : reply_of (array_after inquiry_and_absent_unit (reverse inquiry_and_absent_unit_events)) (command 9) ≡ Some (check_condition (sense_of 5 37 0))
unfolding need_of sent_of ones
inquiry_and_absent_unit_reply_11 = refl

inquiry_and_absent_unit_reply_12 : reply_of (array_after inquiry_and_absent_unit (reverse inquiry_and_absent_unit_events)) (sense 9) ≡ Some (good (112 ∷ 0 ∷ 5 ∷ 0 ∷ 0 ∷ 0 ∷ 0 ∷ 10 ∷ 0 ∷ 0 ∷ 0 ∷ 0 ∷ 37 ∷ 0 ∷ 0 ∷ 0 ∷ 0 ∷ 0 ∷ []))
unfolding need_of sent_of ones
inquiry_and_absent_unit_reply_12 = refl

inquiry_and_absent_unit_reply_13 : reply_of (array_after inquiry_and_absent_unit (reverse inquiry_and_absent_unit_events)) (command 10) ≡ Some (good (112 ∷ 0 ∷ 5 ∷ 0 ∷ 0 ∷ 0 ∷ 0 ∷ 10 ∷ 0 ∷ 0 ∷ 0 ∷ 0 ∷ 37 ∷ 0 ∷ 0 ∷ 0 ∷ 0 ∷ 0 ∷ []))
unfolding need_of sent_of ones
inquiry_and_absent_unit_reply_13 = refl

inquiry_and_absent_unit_reply_14 : reply_of (array_after inquiry_and_absent_unit (reverse inquiry_and_absent_unit_events)) (command 11) ≡ Some (check_condition (sense_of 5 37 0))
unfolding need_of sent_of ones
inquiry_and_absent_unit_reply_14 = refl

inquiry_and_absent_unit_reply_15 : reply_of (array_after inquiry_and_absent_unit (reverse inquiry_and_absent_unit_events)) (sense 11) ≡ Some (good (112 ∷ 0 ∷ 5 ∷ 0 ∷ 0 ∷ 0 ∷ 0 ∷ 10 ∷ 0 ∷ 0 ∷ 0 ∷ 0 ∷ 37 ∷ 0 ∷ 0 ∷ 0 ∷ 0 ∷ 0 ∷ []))
unfolding need_of sent_of ones
inquiry_and_absent_unit_reply_15 = refl

-- ---- queue_cleared

abbrev queue_cleared : ScenarioValue
queue_cleared = record {
  version = 3;
  hosts = record { dev = 7; latency = 0; most = 3; retries = 2; period = 0; offset = 0; lag = 0; offers = true } ∷ record { dev = 6; latency = 0; most = 1; retries = 2; period = 0; offset = 0; lag = 0; offers = true } ∷ [];
  targets = record { dev = 0; latency = 0; retries = 2; disc = policies.Command; pick = picks.First; seek = 30000; period = 0; offset = 0; begins = false } ∷ [];
  units = [];
  fills = [];
  tapes = record { target = 0; unit = 0; objects = 12; size = 16; depth = 8 } ∷ [];
  loads = record { target = 0; unit = 0; what = loads.Block (65 ∷ 65 ∷ 65 ∷ 65 ∷ 65 ∷ 65 ∷ 65 ∷ 65 ∷ 65 ∷ 65 ∷ 65 ∷ 65 ∷ 65 ∷ 65 ∷ 65 ∷ 65 ∷ []) } ∷ record { target = 0; unit = 0; what = loads.Block (66 ∷ 66 ∷ 66 ∷ 66 ∷ 66 ∷ 66 ∷ 66 ∷ 66 ∷ 66 ∷ 66 ∷ 66 ∷ 66 ∷ 66 ∷ 66 ∷ 66 ∷ 66 ∷ []) } ∷ record { target = 0; unit = 0; what = loads.Mark } ∷ record { target = 0; unit = 0; what = loads.Block (67 ∷ 67 ∷ 67 ∷ 67 ∷ 67 ∷ 67 ∷ 67 ∷ 67 ∷ 67 ∷ 67 ∷ 67 ∷ 67 ∷ 67 ∷ 67 ∷ 67 ∷ 67 ∷ []) } ∷ record { target = 0; unit = 0; what = loads.Mark } ∷ record { target = 0; unit = 0; what = loads.Mark } ∷ record { target = 0; unit = 0; what = loads.Block (68 ∷ 68 ∷ 68 ∷ 68 ∷ 68 ∷ 68 ∷ 68 ∷ 68 ∷ 68 ∷ 68 ∷ 68 ∷ 68 ∷ 68 ∷ 68 ∷ 68 ∷ 68 ∷ []) } ∷ [];
  commands = record { host = 7; target = 0; unit = 0; at = 0; tag = tags.Simple 1; cdb = (8 ∷ 1 ∷ 0 ∷ 0 ∷ 1 ∷ 0 ∷ []); payload = payloads.Nothing } ∷ record { host = 7; target = 0; unit = 0; at = 0; tag = tags.Simple 2; cdb = (8 ∷ 1 ∷ 0 ∷ 0 ∷ 1 ∷ 0 ∷ []); payload = payloads.Nothing } ∷ record { host = 7; target = 0; unit = 0; at = 90000; tag = tags.Simple 3; cdb = (8 ∷ 1 ∷ 0 ∷ 0 ∷ 1 ∷ 0 ∷ []); payload = payloads.Nothing } ∷ record { host = 7; target = 0; unit = 0; at = 90000; tag = tags.Simple 4; cdb = (8 ∷ 1 ∷ 0 ∷ 0 ∷ 1 ∷ 0 ∷ []); payload = payloads.Nothing } ∷ [];
  aborts = record { host = 6; target = 0; unit = 0; at = 20000; what = aborts.WholeQueue } ∷ [];
  resets = [];
  faults = [];
}

abbrev queue_cleared_events : List Event
queue_cleared_events = events.Accept (command 1) ∷ events.Accept (command 2) ∷ events.Aborted 6 0 0 aborts.WholeQueue ∷ events.Accept (command 3) ∷ events.Accept (command 4) ∷ events.Run (command 3) ∷ events.End (command 3) 2 ∷ events.Accept (sense 3) ∷ events.Run (sense 3) ∷ events.End (sense 3) 0 ∷ events.Run (command 4) ∷ events.End (command 4) 0 ∷ []

queue_cleared_blocks : printed (disks_of (array_after queue_cleared (reverse queue_cleared_events))) ≡ printed (started queue_cleared.units ([]))
unfolding need_of sent_of ones
queue_cleared_blocks = refl

queue_cleared_tapes : tapes_of (array_after queue_cleared (reverse queue_cleared_events)) ≡ record { count = 12; size = 16; touched = []; reel = Some (record { objects = (block (65 ∷ 65 ∷ 65 ∷ 65 ∷ 65 ∷ 65 ∷ 65 ∷ 65 ∷ 65 ∷ 65 ∷ 65 ∷ 65 ∷ 65 ∷ 65 ∷ 65 ∷ 65 ∷ []) ∷ block (66 ∷ 66 ∷ 66 ∷ 66 ∷ 66 ∷ 66 ∷ 66 ∷ 66 ∷ 66 ∷ 66 ∷ 66 ∷ 66 ∷ 66 ∷ 66 ∷ 66 ∷ 66 ∷ []) ∷ filemark ∷ block (67 ∷ 67 ∷ 67 ∷ 67 ∷ 67 ∷ 67 ∷ 67 ∷ 67 ∷ 67 ∷ 67 ∷ 67 ∷ 67 ∷ 67 ∷ 67 ∷ 67 ∷ 67 ∷ []) ∷ filemark ∷ filemark ∷ block (68 ∷ 68 ∷ 68 ∷ 68 ∷ 68 ∷ 68 ∷ 68 ∷ 68 ∷ 68 ∷ 68 ∷ 68 ∷ 68 ∷ 68 ∷ 68 ∷ 68 ∷ 68 ∷ []) ∷ []); position = 1 }) } ∷ []
unfolding need_of sent_of ones
queue_cleared_tapes = refl

queue_cleared_reply_1 : check_in (reply_of (array_after queue_cleared (reverse queue_cleared_events)) (command 3)) ≡ Some (sense_of 6 47 0)
unfolding need_of sent_of ones
queue_cleared_reply_1 = refl

queue_cleared_reply_2 : reply_of (array_after queue_cleared (reverse queue_cleared_events)) (sense 3) ≡ Some (good (112 ∷ 0 ∷ 6 ∷ 0 ∷ 0 ∷ 0 ∷ 0 ∷ 10 ∷ 0 ∷ 0 ∷ 0 ∷ 0 ∷ 47 ∷ 0 ∷ 0 ∷ 0 ∷ 0 ∷ 0 ∷ []))
unfolding need_of sent_of ones
queue_cleared_reply_2 = refl

queue_cleared_reply_3 : reply_of (array_after queue_cleared (reverse queue_cleared_events)) (command 4) ≡ Some (good (65 ∷ 65 ∷ 65 ∷ 65 ∷ 65 ∷ 65 ∷ 65 ∷ 65 ∷ 65 ∷ 65 ∷ 65 ∷ 65 ∷ 65 ∷ 65 ∷ 65 ∷ 65 ∷ []))
unfolding need_of sent_of ones
queue_cleared_reply_3 = refl

-- ---- tag_aborted

abbrev tag_aborted : ScenarioValue
tag_aborted = record {
  version = 3;
  hosts = record { dev = 7; latency = 0; most = 3; retries = 2; period = 0; offset = 0; lag = 0; offers = true } ∷ [];
  targets = record { dev = 0; latency = 0; retries = 2; disc = policies.Command; pick = picks.First; seek = 30000; period = 0; offset = 0; begins = false } ∷ [];
  units = [];
  fills = [];
  tapes = record { target = 0; unit = 0; objects = 12; size = 16; depth = 8 } ∷ [];
  loads = record { target = 0; unit = 0; what = loads.Block (65 ∷ 65 ∷ 65 ∷ 65 ∷ 65 ∷ 65 ∷ 65 ∷ 65 ∷ 65 ∷ 65 ∷ 65 ∷ 65 ∷ 65 ∷ 65 ∷ 65 ∷ 65 ∷ []) } ∷ record { target = 0; unit = 0; what = loads.Block (66 ∷ 66 ∷ 66 ∷ 66 ∷ 66 ∷ 66 ∷ 66 ∷ 66 ∷ 66 ∷ 66 ∷ 66 ∷ 66 ∷ 66 ∷ 66 ∷ 66 ∷ 66 ∷ []) } ∷ record { target = 0; unit = 0; what = loads.Mark } ∷ record { target = 0; unit = 0; what = loads.Block (67 ∷ 67 ∷ 67 ∷ 67 ∷ 67 ∷ 67 ∷ 67 ∷ 67 ∷ 67 ∷ 67 ∷ 67 ∷ 67 ∷ 67 ∷ 67 ∷ 67 ∷ 67 ∷ []) } ∷ record { target = 0; unit = 0; what = loads.Mark } ∷ record { target = 0; unit = 0; what = loads.Mark } ∷ record { target = 0; unit = 0; what = loads.Block (68 ∷ 68 ∷ 68 ∷ 68 ∷ 68 ∷ 68 ∷ 68 ∷ 68 ∷ 68 ∷ 68 ∷ 68 ∷ 68 ∷ 68 ∷ 68 ∷ 68 ∷ 68 ∷ []) } ∷ [];
  commands = record { host = 7; target = 0; unit = 0; at = 0; tag = tags.Simple 1; cdb = (8 ∷ 1 ∷ 0 ∷ 0 ∷ 1 ∷ 0 ∷ []); payload = payloads.Nothing } ∷ record { host = 7; target = 0; unit = 0; at = 0; tag = tags.Simple 2; cdb = (8 ∷ 1 ∷ 0 ∷ 0 ∷ 1 ∷ 0 ∷ []); payload = payloads.Nothing } ∷ record { host = 7; target = 0; unit = 0; at = 0; tag = tags.Simple 3; cdb = (8 ∷ 1 ∷ 0 ∷ 0 ∷ 1 ∷ 0 ∷ []); payload = payloads.Nothing } ∷ [];
  aborts = record { host = 7; target = 0; unit = 0; at = 20000; what = (aborts.Tag 1) } ∷ [];
  resets = [];
  faults = [];
}

abbrev tag_aborted_events : List Event
tag_aborted_events = events.Accept (command 1) ∷ events.Accept (command 2) ∷ events.Accept (command 3) ∷ events.Aborted 7 0 0 (aborts.Tag 1) ∷ events.Run (command 2) ∷ events.End (command 2) 0 ∷ events.Run (command 3) ∷ events.End (command 3) 0 ∷ []

tag_aborted_blocks : printed (disks_of (array_after tag_aborted (reverse tag_aborted_events))) ≡ printed (started tag_aborted.units ([]))
unfolding need_of sent_of ones
tag_aborted_blocks = refl

tag_aborted_tapes : tapes_of (array_after tag_aborted (reverse tag_aborted_events)) ≡ record { count = 12; size = 16; touched = []; reel = Some (record { objects = (block (65 ∷ 65 ∷ 65 ∷ 65 ∷ 65 ∷ 65 ∷ 65 ∷ 65 ∷ 65 ∷ 65 ∷ 65 ∷ 65 ∷ 65 ∷ 65 ∷ 65 ∷ 65 ∷ []) ∷ block (66 ∷ 66 ∷ 66 ∷ 66 ∷ 66 ∷ 66 ∷ 66 ∷ 66 ∷ 66 ∷ 66 ∷ 66 ∷ 66 ∷ 66 ∷ 66 ∷ 66 ∷ 66 ∷ []) ∷ filemark ∷ block (67 ∷ 67 ∷ 67 ∷ 67 ∷ 67 ∷ 67 ∷ 67 ∷ 67 ∷ 67 ∷ 67 ∷ 67 ∷ 67 ∷ 67 ∷ 67 ∷ 67 ∷ 67 ∷ []) ∷ filemark ∷ filemark ∷ block (68 ∷ 68 ∷ 68 ∷ 68 ∷ 68 ∷ 68 ∷ 68 ∷ 68 ∷ 68 ∷ 68 ∷ 68 ∷ 68 ∷ 68 ∷ 68 ∷ 68 ∷ 68 ∷ []) ∷ []); position = 2 }) } ∷ []
unfolding need_of sent_of ones
tag_aborted_tapes = refl

tag_aborted_reply_1 : reply_of (array_after tag_aborted (reverse tag_aborted_events)) (command 2) ≡ Some (good (65 ∷ 65 ∷ 65 ∷ 65 ∷ 65 ∷ 65 ∷ 65 ∷ 65 ∷ 65 ∷ 65 ∷ 65 ∷ 65 ∷ 65 ∷ 65 ∷ 65 ∷ 65 ∷ []))
unfolding need_of sent_of ones
tag_aborted_reply_1 = refl

tag_aborted_reply_2 : reply_of (array_after tag_aborted (reverse tag_aborted_events)) (command 3) ≡ Some (good (66 ∷ 66 ∷ 66 ∷ 66 ∷ 66 ∷ 66 ∷ 66 ∷ 66 ∷ 66 ∷ 66 ∷ 66 ∷ 66 ∷ 66 ∷ 66 ∷ 66 ∷ 66 ∷ []))
unfolding need_of sent_of ones
tag_aborted_reply_2 = refl
