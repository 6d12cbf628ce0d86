-- Whole runs, computed: their transcripts have the events of their histories. An independent simulator printed the rows and the
-- transcripts. Written by tools/makers/told_case.py.
use Rattle.std.proofs.Common.{ℕ, ◌≡◌, Bool, true, false, List, [], ◌∷◌, reverse, refl, ◌∙◌, sym, ◌++◌}
use Rattle.std.specs.Prelude.{Option, Some, None, codes}
use lib.Count.{ones}
use Rattle.bus_base.specs.declared.ProcId.{ProcId}
use Rattle.bus_base.specs.declared.AbortKind.TheVariants as aborts
use Rattle.bus_base.specs.declared.Event.{Event}
use Rattle.bus_base.specs.declared.Event.TheVariants as events
use Rattle.bus_base.specs.declared.events.Pick.TheVariants as picks
use Rattle.scenario.specs.declared.value.FillDef.{FillDef}
use Rattle.scenario.specs.declared.value.UnitDef.{UnitDef}
use Rattle.scenario.specs.declared.value.Policy.TheVariants as policies
use Rattle.scenario.specs.declared.value.Load.TheVariants as loads
use Rattle.scenario.specs.declared.value.Tag.TheVariants as tags
use Rattle.scenario.specs.declared.value.Payload.TheVariants as payloads
use Rattle.scenario.specs.Value.{ScenarioValue}
use Rattle.scenario.specs.Needs.{need_of, sent_of}
use Rattle.array_model.specs.Contents.{Contents, starting_contents, printed_blocks}
use Rattle.array_model.specs.Execution.{Reply, good, check_condition, queue_full, sense_of}
use Rattle.array_model.specs.ArrayHistory.{array_after, disks_of, reply_of}
use Rattle.bus_transcript.specs.Events.{events_shown, named_history, TellsHistory}
use Rattle.bus_trace.specs.LineSet.{set_of, line_of}
use Rattle.bus_trace.specs.View.{union_below}
use Rattle.bus_trace.specs.declared.Row.{Row}
use Rattle.bus_trace.specs.declared.Kind.TheVariants.{Drives, Fault}
use Rattle.msg_grammar.specs.declared.message.MsgOut.TheVariants as to_target
use Rattle.msg_grammar.specs.declared.message.MsgIn.TheVariants as to_initiator
use Rattle.msg_grammar.specs.Messages.{form_out, form_in}
use Rattle.bus_transcript.specs.declared.item.Name.{Name}
use Rattle.bus_transcript.specs.declared.item.Item.{Item}
use Rattle.bus_transcript.specs.declared.item.Item.TheVariants as items
use Rattle.bus_transcript.specs.Rows.{by_change, closed_by, transcript_of}

abbrev command : ℕ → ProcId
command n = record { command = n; sense = false }

abbrev sense : ℕ → ProcId
sense n = record { command = n; sense = true }

abbrev drive : ℕ → ℕ → ℕ → Row
drive time dev lines = record { time = time; dev = dev; kind = Drives (set_of lines) }

abbrev strike : ℕ → ℕ → ℕ → Row
strike time dev bit = record { time = time; dev = dev; kind = Fault bit }

abbrev process : ℕ → ℕ → Option ℕ → Option ℕ → ℕ → Name
process initiator target unit tag number =
    record { initiator = initiator; target = target; unit = unit; tag = tag; number = number }

-- ---- failures_told

abbrev failures_told : ScenarioValue
failures_told = record {
  version = 1;
  hosts = record { dev = 3; latency = 100; most = 8; retries = 0; period = 25; offset = 8; lag = 0; offers = true } ∷ [];
  targets = record { dev = 0; latency = 0; retries = 0; disc = policies.Never; pick = picks.Last; seek = 0; period = 50; offset = 8; begins = false } ∷ record { dev = 1; latency = 100; retries = 0; disc = policies.Never; pick = picks.Last; seek = 0; period = 49; offset = 8; begins = false } ∷ [];
  units = record { target = 0; unit = 0; blocks = 1; size = 32; depth = 4 } ∷ record { target = 0; unit = 6; blocks = 1; size = 32; depth = 16 } ∷ record { target = 1; unit = 4; blocks = 1; size = 32; depth = 2 } ∷ record { target = 1; unit = 7; blocks = 2; size = 32; depth = 4 } ∷ [];
  fills = record { target = 0; unit = 0; lba = 0; bytes = (243 ∷ 0 ∷ 92 ∷ 0 ∷ 50 ∷ 24 ∷ 195 ∷ 87 ∷ 111 ∷ 0 ∷ 136 ∷ 94 ∷ 0 ∷ 84 ∷ 86 ∷ 63 ∷ 217 ∷ 1 ∷ 0 ∷ 0 ∷ 148 ∷ 118 ∷ 0 ∷ 133 ∷ 226 ∷ 222 ∷ 23 ∷ 169 ∷ 0 ∷ 109 ∷ 154 ∷ 187 ∷ []) } ∷ record { target = 1; unit = 4; lba = 0; bytes = (15 ∷ 0 ∷ 64 ∷ 0 ∷ 166 ∷ 0 ∷ 91 ∷ 210 ∷ 118 ∷ 172 ∷ 124 ∷ 0 ∷ 201 ∷ 188 ∷ 63 ∷ 212 ∷ 0 ∷ 13 ∷ 124 ∷ 188 ∷ 31 ∷ 0 ∷ 0 ∷ 131 ∷ 158 ∷ 0 ∷ 157 ∷ 0 ∷ 101 ∷ 238 ∷ 166 ∷ 0 ∷ []) } ∷ record { target = 1; unit = 7; lba = 0; bytes = (0 ∷ 0 ∷ 143 ∷ 218 ∷ 64 ∷ 47 ∷ 0 ∷ 177 ∷ 0 ∷ 165 ∷ 167 ∷ 0 ∷ 230 ∷ 88 ∷ 0 ∷ 103 ∷ 0 ∷ 0 ∷ 206 ∷ 35 ∷ 0 ∷ 94 ∷ 0 ∷ 217 ∷ 54 ∷ 0 ∷ 244 ∷ 75 ∷ 233 ∷ 39 ∷ 0 ∷ 0 ∷ []) } ∷ record { target = 1; unit = 7; lba = 1; bytes = (216 ∷ 235 ∷ 0 ∷ 0 ∷ 45 ∷ 0 ∷ 66 ∷ 149 ∷ 0 ∷ 0 ∷ 0 ∷ 203 ∷ 69 ∷ 42 ∷ 9 ∷ 82 ∷ 0 ∷ 204 ∷ 24 ∷ 168 ∷ 5 ∷ 0 ∷ 192 ∷ 82 ∷ 0 ∷ 18 ∷ 139 ∷ 67 ∷ 0 ∷ 52 ∷ 0 ∷ 98 ∷ []) } ∷ [];
  tapes = [];
  loads = [];
  commands = record { host = 3; target = 1; unit = 7; at = 24081; tag = tags.Ordered 0; cdb = (10 ∷ 0 ∷ 0 ∷ 0 ∷ 2 ∷ 0 ∷ []); payload = payloads.From 227 } ∷ record { host = 3; target = 1; unit = 7; at = 19892; tag = tags.Untagged; cdb = (42 ∷ 8 ∷ 0 ∷ 0 ∷ 0 ∷ 0 ∷ 0 ∷ 0 ∷ 2 ∷ 0 ∷ []); payload = payloads.From 197 } ∷ record { host = 3; target = 0; unit = 0; at = 37; tag = tags.Simple 255; cdb = (10 ∷ 0 ∷ 0 ∷ 0 ∷ 1 ∷ 0 ∷ []); payload = payloads.From 192 } ∷ [];
  aborts = record { host = 3; target = 0; unit = 0; at = 83587; what = aborts.WholeQueue } ∷ record { host = 3; target = 0; unit = 0; at = 133964; what = aborts.WholeQueue } ∷ record { host = 3; target = 1; unit = 4; at = 83662; what = (aborts.Tag 255) } ∷ [];
  resets = record { dev = 1; at = 94094 } ∷ record { dev = 0; at = 40497 } ∷ record { dev = 0; at = 52332 } ∷ [];
  faults = record { at = 78119; bit = 0 } ∷ record { at = 95839; bit = 5 } ∷ record { at = 36691; bit = 6 } ∷ [];
}

abbrev pub failures_told_rows : List Row
failures_told_rows = drive 24181 3 0x00208 ∷ drive 26681 3 0x00608 ∷ drive 27981 3 0x1070a ∷ drive 28171 3 0x1050a ∷ drive 28671 1 0x00200 ∷ drive 28861 3 0x10000 ∷ drive 28961 1 0x02a00 ∷ drive 29461 1 0x06a00 ∷ drive 29561 3 0x100c7 ∷ drive 29716 3 0x180c7 ∷ drive 29816 1 0x02a00 ∷ drive 29916 3 0x10000 ∷ drive 30016 1 0x06a00 ∷ drive 30116 3 0x10122 ∷ drive 30271 3 0x18122 ∷ drive 30371 1 0x02a00 ∷ drive 30471 3 0x10000 ∷ drive 30571 1 0x06a00 ∷ drive 30671 3 0x10100 ∷ drive 30826 3 0x18100 ∷ drive 30926 1 0x02a00 ∷ drive 31026 3 0x10000 ∷ drive 31126 1 0x06a00 ∷ drive 31226 3 0x10001 ∷ drive 31381 3 0x18001 ∷ drive 31481 1 0x02a00 ∷ drive 31581 3 0x10000 ∷ drive 31681 1 0x06a00 ∷ drive 31781 3 0x10103 ∷ drive 31936 3 0x18103 ∷ drive 32036 1 0x02a00 ∷ drive 32136 3 0x10000 ∷ drive 32236 1 0x06a00 ∷ drive 32336 3 0x10001 ∷ drive 32491 3 0x18001 ∷ drive 32591 1 0x02a00 ∷ drive 32691 3 0x10000 ∷ drive 32791 1 0x06a00 ∷ drive 32891 3 0x10019 ∷ drive 33046 3 0x18019 ∷ drive 33146 1 0x02a00 ∷ drive 33246 3 0x10000 ∷ drive 33346 1 0x06a00 ∷ drive 33446 3 0x00008 ∷ drive 33636 3 0x08008 ∷ drive 33736 1 0x02a00 ∷ drive 33836 3 0x00000 ∷ drive 33936 1 0x03a00 ∷ drive 34836 1 0x03a01 ∷ drive 34991 1 0x07a01 ∷ drive 35091 3 0x08000 ∷ drive 35191 1 0x03b03 ∷ drive 35291 3 0x00000 ∷ drive 35391 1 0x07b03 ∷ drive 35491 3 0x08000 ∷ drive 35591 1 0x03a01 ∷ drive 35691 3 0x00000 ∷ drive 35791 1 0x07a01 ∷ drive 35891 3 0x08000 ∷ drive 35991 1 0x03a31 ∷ drive 36091 3 0x00000 ∷ drive 36191 1 0x07a31 ∷ drive 36291 3 0x08000 ∷ drive 36391 1 0x03a08 ∷ drive 36491 3 0x00000 ∷ drive 36591 1 0x07a08 ∷ drive 36691 3 0x08000 ∷ drive 36791 1 0x03a00 ∷ drive 36891 3 0x00000 ∷ drive 36991 1 0x00a00 ∷ drive 37491 1 0x04a00 ∷ drive 37591 3 0x0010a ∷ drive 37746 3 0x0810a ∷ strike 37746 1 6 ∷ drive 37846 1 0x00a00 ∷ drive 37946 3 0x00000 ∷ drive 38046 1 0x01a00 ∷ drive 38946 1 0x01a02 ∷ drive 39101 1 0x05a02 ∷ drive 39201 3 0x08000 ∷ drive 39301 1 0x01a00 ∷ drive 39401 3 0x00000 ∷ drive 39501 1 0x03b00 ∷ drive 40001 1 0x07b00 ∷ drive 40101 3 0x08000 ∷ drive 40201 1 0x03a00 ∷ drive 40301 3 0x00000 ∷ drive 40401 1 0x00000 ∷ drive 40497 0 0x20000 ∷ drive 65497 0 0x00000 ∷ drive 66797 3 0x00208 ∷ drive 69297 3 0x00608 ∷ drive 70597 3 0x1070a ∷ drive 70787 3 0x1050a ∷ drive 71287 1 0x00200 ∷ drive 71477 3 0x10000 ∷ drive 71577 1 0x02a00 ∷ drive 72077 1 0x06a00 ∷ drive 72177 3 0x000c7 ∷ drive 72367 3 0x080c7 ∷ drive 72467 1 0x02a00 ∷ drive 72567 3 0x00000 ∷ drive 72667 1 0x00a00 ∷ drive 73167 1 0x04a00 ∷ drive 73267 3 0x0002a ∷ drive 73422 3 0x0802a ∷ drive 73522 1 0x00a00 ∷ drive 73622 3 0x00000 ∷ drive 73722 1 0x04a00 ∷ drive 73822 3 0x00008 ∷ drive 73977 3 0x08008 ∷ drive 74077 1 0x00a00 ∷ drive 74177 3 0x00000 ∷ drive 74277 1 0x04a00 ∷ drive 74377 3 0x00100 ∷ drive 74532 3 0x08100 ∷ drive 74632 1 0x00a00 ∷ drive 74732 3 0x00000 ∷ drive 74832 1 0x04a00 ∷ drive 74932 3 0x00100 ∷ drive 75087 3 0x08100 ∷ drive 75187 1 0x00a00 ∷ drive 75287 3 0x00000 ∷ drive 75387 1 0x04a00 ∷ drive 75487 3 0x00100 ∷ drive 75642 3 0x08100 ∷ drive 75742 1 0x00a00 ∷ drive 75842 3 0x00000 ∷ drive 75942 1 0x04a00 ∷ drive 76042 3 0x00100 ∷ drive 76197 3 0x08100 ∷ drive 76297 1 0x00a00 ∷ drive 76397 3 0x00000 ∷ drive 76497 1 0x04a00 ∷ drive 76597 3 0x00100 ∷ drive 76752 3 0x08100 ∷ drive 76852 1 0x00a00 ∷ drive 76952 3 0x00000 ∷ drive 77052 1 0x04a00 ∷ drive 77152 3 0x00100 ∷ drive 77307 3 0x08100 ∷ drive 77407 1 0x00a00 ∷ drive 77507 3 0x00000 ∷ drive 77607 1 0x04a00 ∷ drive 77707 3 0x00002 ∷ drive 77862 3 0x08002 ∷ drive 77962 1 0x00a00 ∷ drive 78062 3 0x00000 ∷ drive 78162 1 0x04a00 ∷ drive 78262 3 0x00100 ∷ drive 78417 3 0x08100 ∷ strike 78417 1 0 ∷ drive 78517 1 0x00a00 ∷ drive 78617 3 0x00000 ∷ drive 78717 1 0x01a00 ∷ drive 79617 1 0x01a02 ∷ drive 79772 1 0x05a02 ∷ drive 79872 3 0x08000 ∷ drive 79972 1 0x01a00 ∷ drive 80072 3 0x00000 ∷ drive 80172 1 0x03b00 ∷ drive 80672 1 0x07b00 ∷ drive 80772 3 0x08000 ∷ drive 80872 1 0x03a00 ∷ drive 80972 3 0x00000 ∷ drive 81072 1 0x00000 ∷ drive 82372 3 0x00208 ∷ drive 84872 3 0x00608 ∷ drive 86172 3 0x1070a ∷ drive 86362 3 0x1050a ∷ drive 86862 1 0x00200 ∷ drive 87052 3 0x10000 ∷ drive 87152 1 0x02a00 ∷ drive 87652 1 0x06a00 ∷ drive 87752 3 0x00187 ∷ drive 87942 3 0x08187 ∷ drive 88042 1 0x02a00 ∷ drive 88142 3 0x00000 ∷ drive 88242 1 0x00a00 ∷ drive 88742 1 0x04a00 ∷ drive 88842 3 0x00103 ∷ drive 88997 3 0x08103 ∷ drive 89097 1 0x00a00 ∷ drive 89197 3 0x00000 ∷ drive 89297 1 0x04a00 ∷ drive 89397 3 0x00100 ∷ drive 89552 3 0x08100 ∷ drive 89652 1 0x00a00 ∷ drive 89752 3 0x00000 ∷ drive 89852 1 0x04a00 ∷ drive 89952 3 0x00100 ∷ drive 90107 3 0x08100 ∷ drive 90207 1 0x00a00 ∷ drive 90307 3 0x00000 ∷ drive 90407 1 0x04a00 ∷ drive 90507 3 0x00100 ∷ drive 90662 3 0x08100 ∷ drive 90762 1 0x00a00 ∷ drive 90862 3 0x00000 ∷ drive 90962 1 0x04a00 ∷ drive 91062 3 0x00112 ∷ drive 91217 3 0x08112 ∷ drive 91317 1 0x00a00 ∷ drive 91417 3 0x00000 ∷ drive 91517 1 0x04a00 ∷ drive 91617 3 0x00100 ∷ drive 91772 3 0x08100 ∷ drive 91872 1 0x00a00 ∷ drive 91972 3 0x00000 ∷ drive 92072 1 0x01200 ∷ drive 92972 1 0x01270 ∷ drive 93127 1 0x05270 ∷ drive 93227 3 0x08000 ∷ drive 93327 1 0x01300 ∷ drive 93427 3 0x00000 ∷ drive 93527 1 0x05300 ∷ drive 93627 3 0x08000 ∷ drive 93727 1 0x0120b ∷ drive 93827 3 0x00000 ∷ drive 93927 1 0x0520b ∷ drive 94027 3 0x08000 ∷ drive 94094 1 0x20000 ∷ drive 94194 3 0x00000 ∷ drive 119194 1 0x00000 ∷ drive 120494 3 0x00208 ∷ drive 122994 3 0x00608 ∷ drive 124294 3 0x10709 ∷ drive 124484 3 0x10509 ∷ strike 124884 0 5 ∷ drive 250124584 3 0x10400 ∷ drive 250324774 3 0x00000 ∷ drive 250326074 3 0x00208 ∷ drive 250328574 3 0x00608 ∷ drive 250329874 3 0x10709 ∷ drive 250330064 3 0x10509 ∷ drive 250330464 0 0x00200 ∷ drive 250330654 3 0x10000 ∷ drive 250330654 0 0x02a00 ∷ drive 250331054 0 0x06a00 ∷ drive 250331154 3 0x10080 ∷ drive 250331309 3 0x18080 ∷ drive 250331309 0 0x02a00 ∷ drive 250331409 3 0x10000 ∷ drive 250331409 0 0x06a00 ∷ drive 250331509 3 0x0000e ∷ drive 250331699 3 0x0800e ∷ drive 250331699 0 0x02a00 ∷ drive 250331799 3 0x00000 ∷ drive 250331799 0 0x00000 ∷ drive 250333099 3 0x00208 ∷ drive 250335599 3 0x00608 ∷ drive 250336899 3 0x1070a ∷ drive 250337089 3 0x1050a ∷ drive 250337589 1 0x00200 ∷ drive 250337779 3 0x10000 ∷ drive 250337879 1 0x02a00 ∷ drive 250338379 1 0x06a00 ∷ drive 250338479 3 0x10184 ∷ drive 250338634 3 0x18184 ∷ drive 250338734 1 0x02a00 ∷ drive 250338834 3 0x10000 ∷ drive 250338934 1 0x06a00 ∷ drive 250339034 3 0x10020 ∷ drive 250339189 3 0x18020 ∷ drive 250339289 1 0x02a00 ∷ drive 250339389 3 0x10000 ∷ drive 250339489 1 0x06a00 ∷ drive 250339589 3 0x101ff ∷ drive 250339744 3 0x181ff ∷ drive 250339844 1 0x02a00 ∷ drive 250339944 3 0x10000 ∷ drive 250340044 1 0x06a00 ∷ drive 250340144 3 0x0000d ∷ drive 250340334 3 0x0800d ∷ drive 250340434 1 0x02a00 ∷ drive 250340534 3 0x00000 ∷ drive 250340634 1 0x00000 ∷ drive 250341934 3 0x00208 ∷ drive 250344434 3 0x00608 ∷ drive 250345734 3 0x10709 ∷ drive 250345924 3 0x10509 ∷ drive 250346324 0 0x00200 ∷ drive 250346514 3 0x10000 ∷ drive 250346514 0 0x02a00 ∷ drive 250346914 0 0x06a00 ∷ drive 250347014 3 0x101c0 ∷ drive 250347169 3 0x181c0 ∷ drive 250347169 0 0x02a00 ∷ drive 250347269 3 0x10000 ∷ drive 250347269 0 0x06a00 ∷ drive 250347369 3 0x10020 ∷ drive 250347524 3 0x18020 ∷ drive 250347524 0 0x02a00 ∷ drive 250347624 3 0x10000 ∷ drive 250347624 0 0x06a00 ∷ drive 250347724 3 0x001ff ∷ drive 250347914 3 0x081ff ∷ drive 250347914 0 0x02a00 ∷ drive 250348014 3 0x00000 ∷ drive 250348014 0 0x00a00 ∷ drive 250348414 0 0x04a00 ∷ drive 250348514 3 0x0010a ∷ drive 250348669 3 0x0810a ∷ drive 250348669 0 0x00a00 ∷ drive 250348769 3 0x00000 ∷ drive 250348769 0 0x04a00 ∷ drive 250348869 3 0x00100 ∷ drive 250349024 3 0x08100 ∷ drive 250349024 0 0x00a00 ∷ drive 250349124 3 0x00000 ∷ drive 250349124 0 0x04a00 ∷ drive 250349224 3 0x00100 ∷ drive 250349379 3 0x08100 ∷ drive 250349379 0 0x00a00 ∷ drive 250349479 3 0x00000 ∷ drive 250349479 0 0x04a00 ∷ drive 250349579 3 0x00100 ∷ drive 250349734 3 0x08100 ∷ drive 250349734 0 0x00a00 ∷ drive 250349834 3 0x00000 ∷ drive 250349834 0 0x04a00 ∷ drive 250349934 3 0x00001 ∷ drive 250350089 3 0x08001 ∷ drive 250350089 0 0x00a00 ∷ drive 250350189 3 0x00000 ∷ drive 250350189 0 0x04a00 ∷ drive 250350289 3 0x00100 ∷ drive 250350444 3 0x08100 ∷ drive 250350444 0 0x00a00 ∷ drive 250350544 3 0x00000 ∷ drive 250350544 0 0x01a00 ∷ drive 250351344 0 0x01a02 ∷ drive 250351399 0 0x05a02 ∷ drive 250351499 3 0x08000 ∷ drive 250351499 0 0x01a00 ∷ drive 250351599 3 0x00000 ∷ drive 250351599 0 0x03b00 ∷ drive 250351999 0 0x07b00 ∷ drive 250352099 3 0x08000 ∷ drive 250352099 0 0x03a00 ∷ drive 250352199 3 0x00000 ∷ drive 250352199 0 0x00000 ∷ drive 250353499 3 0x00208 ∷ drive 250355999 3 0x00608 ∷ drive 250357299 3 0x10709 ∷ drive 250357489 3 0x10509 ∷ drive 250357889 0 0x00200 ∷ drive 250358079 3 0x10000 ∷ drive 250358079 0 0x02a00 ∷ drive 250358479 0 0x06a00 ∷ drive 250358579 3 0x00080 ∷ drive 250358769 3 0x08080 ∷ drive 250358769 0 0x02a00 ∷ drive 250358869 3 0x00000 ∷ drive 250358869 0 0x00a00 ∷ drive 250359269 0 0x04a00 ∷ drive 250359369 3 0x00103 ∷ drive 250359524 3 0x08103 ∷ drive 250359524 0 0x00a00 ∷ drive 250359624 3 0x00000 ∷ drive 250359624 0 0x04a00 ∷ drive 250359724 3 0x00100 ∷ drive 250359879 3 0x08100 ∷ drive 250359879 0 0x00a00 ∷ drive 250359979 3 0x00000 ∷ drive 250359979 0 0x04a00 ∷ drive 250360079 3 0x00100 ∷ drive 250360234 3 0x08100 ∷ drive 250360234 0 0x00a00 ∷ drive 250360334 3 0x00000 ∷ drive 250360334 0 0x04a00 ∷ drive 250360434 3 0x00100 ∷ drive 250360589 3 0x08100 ∷ drive 250360589 0 0x00a00 ∷ drive 250360689 3 0x00000 ∷ drive 250360689 0 0x04a00 ∷ drive 250360789 3 0x00112 ∷ drive 250360944 3 0x08112 ∷ drive 250360944 0 0x00a00 ∷ drive 250361044 3 0x00000 ∷ drive 250361044 0 0x04a00 ∷ drive 250361144 3 0x00100 ∷ drive 250361299 3 0x08100 ∷ drive 250361299 0 0x00a00 ∷ drive 250361399 3 0x00000 ∷ drive 250361399 0 0x01200 ∷ drive 250362199 0 0x01270 ∷ drive 250362254 0 0x05270 ∷ drive 250362354 3 0x08000 ∷ drive 250362354 0 0x01300 ∷ drive 250362454 3 0x00000 ∷ drive 250362454 0 0x05300 ∷ drive 250362554 3 0x08000 ∷ drive 250362554 0 0x01306 ∷ drive 250362654 3 0x00000 ∷ drive 250362654 0 0x05306 ∷ drive 250362754 3 0x08000 ∷ drive 250362754 0 0x01300 ∷ drive 250362854 3 0x00000 ∷ drive 250362854 0 0x05300 ∷ drive 250362954 3 0x08000 ∷ drive 250362954 0 0x01300 ∷ drive 250363054 3 0x00000 ∷ drive 250363054 0 0x05300 ∷ drive 250363154 3 0x08000 ∷ drive 250363154 0 0x01300 ∷ drive 250363254 3 0x00000 ∷ drive 250363254 0 0x05300 ∷ drive 250363354 3 0x08000 ∷ drive 250363354 0 0x01300 ∷ drive 250363454 3 0x00000 ∷ drive 250363454 0 0x05300 ∷ drive 250363554 3 0x08000 ∷ drive 250363554 0 0x0130a ∷ drive 250363654 3 0x00000 ∷ drive 250363654 0 0x0530a ∷ drive 250363754 3 0x08000 ∷ drive 250363754 0 0x01300 ∷ drive 250363854 3 0x00000 ∷ drive 250363854 0 0x05300 ∷ drive 250363954 3 0x08000 ∷ drive 250363954 0 0x01300 ∷ drive 250364054 3 0x00000 ∷ drive 250364054 0 0x05300 ∷ drive 250364154 3 0x08000 ∷ drive 250364154 0 0x01300 ∷ drive 250364254 3 0x00000 ∷ drive 250364254 0 0x05300 ∷ drive 250364354 3 0x08000 ∷ drive 250364354 0 0x01300 ∷ drive 250364454 3 0x00000 ∷ drive 250364454 0 0x05300 ∷ drive 250364554 3 0x08000 ∷ drive 250364554 0 0x01229 ∷ drive 250364654 3 0x00000 ∷ drive 250364654 0 0x05229 ∷ drive 250364754 3 0x08000 ∷ drive 250364754 0 0x01300 ∷ drive 250364854 3 0x00000 ∷ drive 250364854 0 0x05300 ∷ drive 250364954 3 0x08000 ∷ drive 250364954 0 0x01300 ∷ drive 250365054 3 0x00000 ∷ drive 250365054 0 0x05300 ∷ drive 250365154 3 0x08000 ∷ drive 250365154 0 0x01300 ∷ drive 250365254 3 0x00000 ∷ drive 250365254 0 0x05300 ∷ drive 250365354 3 0x08000 ∷ drive 250365354 0 0x01300 ∷ drive 250365454 3 0x00000 ∷ drive 250365454 0 0x05300 ∷ drive 250365554 3 0x08000 ∷ drive 250365554 0 0x01300 ∷ drive 250365654 3 0x00000 ∷ drive 250365654 0 0x05300 ∷ drive 250365754 3 0x08000 ∷ drive 250365754 0 0x01200 ∷ drive 250365854 3 0x00000 ∷ drive 250365854 0 0x01b00 ∷ drive 250366254 0 0x05b00 ∷ drive 250366354 3 0x08000 ∷ drive 250366354 0 0x01a00 ∷ drive 250366454 3 0x00000 ∷ drive 250366454 0 0x03b00 ∷ drive 250366854 0 0x07b00 ∷ drive 250366954 3 0x08000 ∷ drive 250366954 0 0x03a00 ∷ drive 250367054 3 0x00000 ∷ drive 250367054 0 0x00000 ∷ []

abbrev failures_told_events : List Item
failures_told_events = items.Ready (process 3 1 (Some 7) (Some 0) 1) ∷ items.End (process 3 1 (Some 7) (Some 0) 1) (Some 2) ∷ items.Reset 0 ∷ items.Ready (process 3 1 (Some 7) None 1) ∷ items.End (process 3 1 (Some 7) None 1) (Some 2) ∷ items.Arrive (process 3 1 (Some 7) None 2) ∷ items.Reset 1 ∷ items.Abort 3 0 (Some 0) aborts.WholeQueue ∷ items.Abort 3 1 (Some 4) (aborts.Tag 255) ∷ items.Arrive (process 3 0 (Some 0) (Some 255) 1) ∷ items.Ready (process 3 0 (Some 0) (Some 255) 1) ∷ items.End (process 3 0 (Some 0) (Some 255) 1) (Some 2) ∷ items.Arrive (process 3 0 (Some 0) None 1) ∷ items.Ready (process 3 0 (Some 0) None 1) ∷ items.End (process 3 0 (Some 0) None 1) (Some 0) ∷ []

failures_told_shown : events_shown failures_told (reverse failures_told_rows) ≡ failures_told_events
unfolding need_of sent_of ones union_below line_of form_out form_in by_change closed_by
failures_told_shown = refl

failures_told_named : named_history failures_told (reverse failures_told_rows) ≡ failures_told_events
unfolding need_of sent_of ones union_below line_of form_out form_in by_change closed_by
failures_told_named = refl

pub failures_told_alike : TellsHistory failures_told (reverse failures_told_rows)
failures_told_alike = failures_told_shown ∙ sym failures_told_named

-- ---- held_told

abbrev held_told : ScenarioValue
held_told = record {
  version = 1;
  hosts = record { dev = 6; latency = 0; most = 8; retries = 2; period = 0; offset = 0; lag = 0; offers = true } ∷ record { dev = 7; latency = 0; most = 8; retries = 2; period = 0; offset = 0; lag = 0; offers = true } ∷ [];
  targets = record { dev = 0; latency = 0; retries = 2; disc = policies.Command; pick = picks.Last; seek = 60000; period = 0; offset = 0; begins = false } ∷ [];
  units = record { target = 0; unit = 0; blocks = 4; size = 16; depth = 8 } ∷ [];
  fills = [];
  tapes = [];
  loads = [];
  commands = record { host = 6; target = 0; unit = 0; at = 0; tag = tags.Simple 1; cdb = (8 ∷ 0 ∷ 0 ∷ 9 ∷ 1 ∷ 0 ∷ []); payload = payloads.Nothing } ∷ record { host = 7; target = 0; unit = 0; at = 5000; tag = tags.Simple 2; cdb = (10 ∷ 0 ∷ 0 ∷ 1 ∷ 1 ∷ 0 ∷ []); payload = payloads.From 16 } ∷ record { host = 7; target = 0; unit = 0; at = 74000; tag = tags.Simple 3; cdb = (10 ∷ 0 ∷ 0 ∷ 2 ∷ 1 ∷ 0 ∷ []); payload = payloads.From 32 } ∷ [];
  aborts = [];
  resets = [];
  faults = [];
}

abbrev pub held_told_rows : List Row
held_told_rows = drive 1200 6 0x00240 ∷ drive 3600 6 0x00640 ∷ drive 4800 6 0x10741 ∷ drive 4890 6 0x10541 ∷ drive 5290 0 0x00200 ∷ drive 5380 6 0x10000 ∷ drive 5380 0 0x02a00 ∷ drive 5780 0 0x06a00 ∷ drive 5780 6 0x101c0 ∷ drive 5835 6 0x181c0 ∷ drive 5835 0 0x02a00 ∷ drive 5835 6 0x10000 ∷ drive 5835 0 0x06a00 ∷ drive 5835 6 0x10020 ∷ drive 5890 6 0x18020 ∷ drive 5890 0 0x02a00 ∷ drive 5890 6 0x10000 ∷ drive 5890 0 0x06a00 ∷ drive 5890 6 0x00001 ∷ drive 5980 6 0x08001 ∷ drive 5980 0 0x02a00 ∷ drive 5980 6 0x00000 ∷ drive 5980 0 0x00a00 ∷ drive 6380 0 0x04a00 ∷ drive 6380 6 0x00008 ∷ drive 6435 6 0x08008 ∷ drive 6435 0 0x00a00 ∷ drive 6435 6 0x00000 ∷ drive 6435 0 0x04a00 ∷ drive 6435 6 0x00100 ∷ drive 6490 6 0x08100 ∷ drive 6490 0 0x00a00 ∷ drive 6490 6 0x00000 ∷ drive 6490 0 0x04a00 ∷ drive 6490 6 0x00100 ∷ drive 6545 6 0x08100 ∷ drive 6545 0 0x00a00 ∷ drive 6545 6 0x00000 ∷ drive 6545 0 0x04a00 ∷ drive 6545 6 0x00109 ∷ drive 6600 6 0x08109 ∷ drive 6600 0 0x00a00 ∷ drive 6600 6 0x00000 ∷ drive 6600 0 0x04a00 ∷ drive 6600 6 0x00001 ∷ drive 6655 6 0x08001 ∷ drive 6655 0 0x00a00 ∷ drive 6655 6 0x00000 ∷ drive 6655 0 0x04a00 ∷ drive 6655 6 0x00100 ∷ drive 6710 6 0x08100 ∷ drive 6710 0 0x00a00 ∷ drive 6710 6 0x00000 ∷ drive 6710 0 0x03a00 ∷ drive 7510 0 0x03a04 ∷ drive 7565 0 0x07a04 ∷ drive 7565 6 0x08000 ∷ drive 7565 0 0x03a00 ∷ drive 7565 6 0x00000 ∷ drive 7565 0 0x00000 ∷ drive 8765 7 0x00280 ∷ drive 11165 7 0x00680 ∷ drive 12365 7 0x10781 ∷ drive 12455 7 0x10581 ∷ drive 12855 0 0x00200 ∷ drive 12945 7 0x10000 ∷ drive 12945 0 0x02a00 ∷ drive 13345 0 0x06a00 ∷ drive 13345 7 0x101c0 ∷ drive 13400 7 0x181c0 ∷ drive 13400 0 0x02a00 ∷ drive 13400 7 0x10000 ∷ drive 13400 0 0x06a00 ∷ drive 13400 7 0x10020 ∷ drive 13455 7 0x18020 ∷ drive 13455 0 0x02a00 ∷ drive 13455 7 0x10000 ∷ drive 13455 0 0x06a00 ∷ drive 13455 7 0x00002 ∷ drive 13545 7 0x08002 ∷ drive 13545 0 0x02a00 ∷ drive 13545 7 0x00000 ∷ drive 13545 0 0x00a00 ∷ drive 13945 0 0x04a00 ∷ drive 13945 7 0x0010a ∷ drive 14000 7 0x0810a ∷ drive 14000 0 0x00a00 ∷ drive 14000 7 0x00000 ∷ drive 14000 0 0x04a00 ∷ drive 14000 7 0x00100 ∷ drive 14055 7 0x08100 ∷ drive 14055 0 0x00a00 ∷ drive 14055 7 0x00000 ∷ drive 14055 0 0x04a00 ∷ drive 14055 7 0x00100 ∷ drive 14110 7 0x08100 ∷ drive 14110 0 0x00a00 ∷ drive 14110 7 0x00000 ∷ drive 14110 0 0x04a00 ∷ drive 14110 7 0x00001 ∷ drive 14165 7 0x08001 ∷ drive 14165 0 0x00a00 ∷ drive 14165 7 0x00000 ∷ drive 14165 0 0x04a00 ∷ drive 14165 7 0x00001 ∷ drive 14220 7 0x08001 ∷ drive 14220 0 0x00a00 ∷ drive 14220 7 0x00000 ∷ drive 14220 0 0x04a00 ∷ drive 14220 7 0x00100 ∷ drive 14275 7 0x08100 ∷ drive 14275 0 0x00a00 ∷ drive 14275 7 0x00000 ∷ drive 14275 0 0x03a00 ∷ drive 15075 0 0x03a04 ∷ drive 15130 0 0x07a04 ∷ drive 15130 7 0x08000 ∷ drive 15130 0 0x03a00 ∷ drive 15130 7 0x00000 ∷ drive 15130 0 0x00000 ∷ drive 66710 0 0x00201 ∷ drive 69110 0 0x00601 ∷ drive 70310 0 0x01741 ∷ drive 70400 0 0x01541 ∷ drive 70800 6 0x00200 ∷ drive 70800 0 0x01741 ∷ drive 70890 0 0x03a80 ∷ drive 70890 6 0x00000 ∷ drive 71290 0 0x07a80 ∷ drive 71290 6 0x08000 ∷ drive 71290 0 0x03a20 ∷ drive 71290 6 0x00000 ∷ drive 71345 0 0x07a20 ∷ drive 71345 6 0x08000 ∷ drive 71345 0 0x03a01 ∷ drive 71345 6 0x00000 ∷ drive 71400 0 0x07a01 ∷ drive 71400 6 0x08000 ∷ drive 71400 0 0x03a00 ∷ drive 71400 6 0x00000 ∷ drive 71400 0 0x01a02 ∷ drive 71800 0 0x05a02 ∷ drive 71800 6 0x08000 ∷ drive 71800 0 0x01a00 ∷ drive 71800 6 0x00000 ∷ drive 71800 0 0x03b00 ∷ drive 72200 0 0x07b00 ∷ drive 72200 6 0x08000 ∷ drive 72200 0 0x03a00 ∷ drive 72200 6 0x00000 ∷ drive 72200 0 0x00000 ∷ drive 73400 6 0x00240 ∷ drive 74000 7 0x00280 ∷ drive 76400 7 0x00680 ∷ drive 76400 6 0x00000 ∷ drive 77600 7 0x10781 ∷ drive 77690 7 0x10581 ∷ drive 78090 0 0x00200 ∷ drive 78180 7 0x10000 ∷ drive 78180 0 0x02a00 ∷ drive 78580 0 0x06a00 ∷ drive 78580 7 0x101c0 ∷ drive 78635 7 0x181c0 ∷ drive 78635 0 0x02a00 ∷ drive 78635 7 0x10000 ∷ drive 78635 0 0x06a00 ∷ drive 78635 7 0x10020 ∷ drive 78690 7 0x18020 ∷ drive 78690 0 0x02a00 ∷ drive 78690 7 0x10000 ∷ drive 78690 0 0x06a00 ∷ drive 78690 7 0x00103 ∷ drive 78780 7 0x08103 ∷ drive 78780 0 0x02a00 ∷ drive 78780 7 0x00000 ∷ drive 78780 0 0x00a00 ∷ drive 79180 0 0x04a00 ∷ drive 79180 7 0x0010a ∷ drive 79235 7 0x0810a ∷ drive 79235 0 0x00a00 ∷ drive 79235 7 0x00000 ∷ drive 79235 0 0x04a00 ∷ drive 79235 7 0x00100 ∷ drive 79290 7 0x08100 ∷ drive 79290 0 0x00a00 ∷ drive 79290 7 0x00000 ∷ drive 79290 0 0x04a00 ∷ drive 79290 7 0x00100 ∷ drive 79345 7 0x08100 ∷ drive 79345 0 0x00a00 ∷ drive 79345 7 0x00000 ∷ drive 79345 0 0x04a00 ∷ drive 79345 7 0x00002 ∷ drive 79400 7 0x08002 ∷ drive 79400 0 0x00a00 ∷ drive 79400 7 0x00000 ∷ drive 79400 0 0x04a00 ∷ drive 79400 7 0x00001 ∷ drive 79455 7 0x08001 ∷ drive 79455 0 0x00a00 ∷ drive 79455 7 0x00000 ∷ drive 79455 0 0x04a00 ∷ drive 79455 7 0x00100 ∷ drive 79510 7 0x08100 ∷ drive 79510 0 0x00a00 ∷ drive 79510 7 0x00000 ∷ drive 79510 0 0x03a00 ∷ drive 80310 0 0x03a04 ∷ drive 80365 0 0x07a04 ∷ drive 80365 7 0x08000 ∷ drive 80365 0 0x03a00 ∷ drive 80365 7 0x00000 ∷ drive 80365 0 0x00000 ∷ drive 81565 6 0x00240 ∷ drive 83965 6 0x00640 ∷ drive 85165 6 0x10741 ∷ drive 85255 6 0x10541 ∷ drive 85655 0 0x00200 ∷ drive 85745 6 0x10000 ∷ drive 85745 0 0x02a00 ∷ drive 86145 0 0x06a00 ∷ drive 86145 6 0x00080 ∷ drive 86235 6 0x08080 ∷ drive 86235 0 0x02a00 ∷ drive 86235 6 0x00000 ∷ drive 86235 0 0x00a00 ∷ drive 86635 0 0x04a00 ∷ drive 86635 6 0x00103 ∷ drive 86690 6 0x08103 ∷ drive 86690 0 0x00a00 ∷ drive 86690 6 0x00000 ∷ drive 86690 0 0x04a00 ∷ drive 86690 6 0x00100 ∷ drive 86745 6 0x08100 ∷ drive 86745 0 0x00a00 ∷ drive 86745 6 0x00000 ∷ drive 86745 0 0x04a00 ∷ drive 86745 6 0x00100 ∷ drive 86800 6 0x08100 ∷ drive 86800 0 0x00a00 ∷ drive 86800 6 0x00000 ∷ drive 86800 0 0x04a00 ∷ drive 86800 6 0x00100 ∷ drive 86855 6 0x08100 ∷ drive 86855 0 0x00a00 ∷ drive 86855 6 0x00000 ∷ drive 86855 0 0x04a00 ∷ drive 86855 6 0x00112 ∷ drive 86910 6 0x08112 ∷ drive 86910 0 0x00a00 ∷ drive 86910 6 0x00000 ∷ drive 86910 0 0x04a00 ∷ drive 86910 6 0x00100 ∷ drive 86965 6 0x08100 ∷ drive 86965 0 0x00a00 ∷ drive 86965 6 0x00000 ∷ drive 86965 0 0x01200 ∷ drive 87765 0 0x01270 ∷ drive 87820 0 0x05270 ∷ drive 87820 6 0x08000 ∷ drive 87820 0 0x01300 ∷ drive 87820 6 0x00000 ∷ drive 87875 0 0x05300 ∷ drive 87875 6 0x08000 ∷ drive 87875 0 0x01305 ∷ drive 87875 6 0x00000 ∷ drive 87930 0 0x05305 ∷ drive 87930 6 0x08000 ∷ drive 87930 0 0x01300 ∷ drive 87930 6 0x00000 ∷ drive 87985 0 0x05300 ∷ drive 87985 6 0x08000 ∷ drive 87985 0 0x01300 ∷ drive 87985 6 0x00000 ∷ drive 88040 0 0x05300 ∷ drive 88040 6 0x08000 ∷ drive 88040 0 0x01300 ∷ drive 88040 6 0x00000 ∷ drive 88095 0 0x05300 ∷ drive 88095 6 0x08000 ∷ drive 88095 0 0x01300 ∷ drive 88095 6 0x00000 ∷ drive 88150 0 0x05300 ∷ drive 88150 6 0x08000 ∷ drive 88150 0 0x0130a ∷ drive 88150 6 0x00000 ∷ drive 88205 0 0x0530a ∷ drive 88205 6 0x08000 ∷ drive 88205 0 0x01300 ∷ drive 88205 6 0x00000 ∷ drive 88260 0 0x05300 ∷ drive 88260 6 0x08000 ∷ drive 88260 0 0x01300 ∷ drive 88260 6 0x00000 ∷ drive 88315 0 0x05300 ∷ drive 88315 6 0x08000 ∷ drive 88315 0 0x01300 ∷ drive 88315 6 0x00000 ∷ drive 88370 0 0x05300 ∷ drive 88370 6 0x08000 ∷ drive 88370 0 0x01300 ∷ drive 88370 6 0x00000 ∷ drive 88425 0 0x05300 ∷ drive 88425 6 0x08000 ∷ drive 88425 0 0x01321 ∷ drive 88425 6 0x00000 ∷ drive 88480 0 0x05321 ∷ drive 88480 6 0x08000 ∷ drive 88480 0 0x01300 ∷ drive 88480 6 0x00000 ∷ drive 88535 0 0x05300 ∷ drive 88535 6 0x08000 ∷ drive 88535 0 0x01300 ∷ drive 88535 6 0x00000 ∷ drive 88590 0 0x05300 ∷ drive 88590 6 0x08000 ∷ drive 88590 0 0x01300 ∷ drive 88590 6 0x00000 ∷ drive 88645 0 0x05300 ∷ drive 88645 6 0x08000 ∷ drive 88645 0 0x01300 ∷ drive 88645 6 0x00000 ∷ drive 88700 0 0x05300 ∷ drive 88700 6 0x08000 ∷ drive 88700 0 0x01300 ∷ drive 88700 6 0x00000 ∷ drive 88755 0 0x05300 ∷ drive 88755 6 0x08000 ∷ drive 88755 0 0x01200 ∷ drive 88755 6 0x00000 ∷ drive 88755 0 0x01b00 ∷ drive 89155 0 0x05b00 ∷ drive 89155 6 0x08000 ∷ drive 89155 0 0x01a00 ∷ drive 89155 6 0x00000 ∷ drive 89155 0 0x03b00 ∷ drive 89555 0 0x07b00 ∷ drive 89555 6 0x08000 ∷ drive 89555 0 0x03a00 ∷ drive 89555 6 0x00000 ∷ drive 89555 0 0x00000 ∷ drive 149555 0 0x00201 ∷ drive 151955 0 0x00601 ∷ drive 153155 0 0x01781 ∷ drive 153245 0 0x01581 ∷ drive 153645 7 0x00200 ∷ drive 153645 0 0x01781 ∷ drive 153735 0 0x03a80 ∷ drive 153735 7 0x00000 ∷ drive 154135 0 0x07a80 ∷ drive 154135 7 0x08000 ∷ drive 154135 0 0x03a20 ∷ drive 154135 7 0x00000 ∷ drive 154190 0 0x07a20 ∷ drive 154190 7 0x08000 ∷ drive 154190 0 0x03b03 ∷ drive 154190 7 0x00000 ∷ drive 154245 0 0x07b03 ∷ drive 154245 7 0x08000 ∷ drive 154245 0 0x03a00 ∷ drive 154245 7 0x00000 ∷ drive 154245 0 0x00200 ∷ drive 154645 0 0x04200 ∷ drive 154645 7 0x00020 ∷ drive 154700 7 0x08020 ∷ drive 154700 0 0x00200 ∷ drive 154700 7 0x00000 ∷ drive 154700 0 0x04200 ∷ drive 154700 7 0x00121 ∷ drive 154755 7 0x08121 ∷ drive 154755 0 0x00200 ∷ drive 154755 7 0x00000 ∷ drive 154755 0 0x04200 ∷ drive 154755 7 0x00122 ∷ drive 154810 7 0x08122 ∷ drive 154810 0 0x00200 ∷ drive 154810 7 0x00000 ∷ drive 154810 0 0x04200 ∷ drive 154810 7 0x00023 ∷ drive 154865 7 0x08023 ∷ drive 154865 0 0x00200 ∷ drive 154865 7 0x00000 ∷ drive 154865 0 0x04200 ∷ drive 154865 7 0x00124 ∷ drive 154920 7 0x08124 ∷ drive 154920 0 0x00200 ∷ drive 154920 7 0x00000 ∷ drive 154920 0 0x04200 ∷ drive 154920 7 0x00025 ∷ drive 154975 7 0x08025 ∷ drive 154975 0 0x00200 ∷ drive 154975 7 0x00000 ∷ drive 154975 0 0x04200 ∷ drive 154975 7 0x00026 ∷ drive 155030 7 0x08026 ∷ drive 155030 0 0x00200 ∷ drive 155030 7 0x00000 ∷ drive 155030 0 0x04200 ∷ drive 155030 7 0x00127 ∷ drive 155085 7 0x08127 ∷ drive 155085 0 0x00200 ∷ drive 155085 7 0x00000 ∷ drive 155085 0 0x04200 ∷ drive 155085 7 0x00128 ∷ drive 155140 7 0x08128 ∷ drive 155140 0 0x00200 ∷ drive 155140 7 0x00000 ∷ drive 155140 0 0x04200 ∷ drive 155140 7 0x00029 ∷ drive 155195 7 0x08029 ∷ drive 155195 0 0x00200 ∷ drive 155195 7 0x00000 ∷ drive 155195 0 0x04200 ∷ drive 155195 7 0x0002a ∷ drive 155250 7 0x0802a ∷ drive 155250 0 0x00200 ∷ drive 155250 7 0x00000 ∷ drive 155250 0 0x04200 ∷ drive 155250 7 0x0012b ∷ drive 155305 7 0x0812b ∷ drive 155305 0 0x00200 ∷ drive 155305 7 0x00000 ∷ drive 155305 0 0x04200 ∷ drive 155305 7 0x0002c ∷ drive 155360 7 0x0802c ∷ drive 155360 0 0x00200 ∷ drive 155360 7 0x00000 ∷ drive 155360 0 0x04200 ∷ drive 155360 7 0x0012d ∷ drive 155415 7 0x0812d ∷ drive 155415 0 0x00200 ∷ drive 155415 7 0x00000 ∷ drive 155415 0 0x04200 ∷ drive 155415 7 0x0012e ∷ drive 155470 7 0x0812e ∷ drive 155470 0 0x00200 ∷ drive 155470 7 0x00000 ∷ drive 155470 0 0x04200 ∷ drive 155470 7 0x0002f ∷ drive 155525 7 0x0802f ∷ drive 155525 0 0x00200 ∷ drive 155525 7 0x00000 ∷ drive 155525 0 0x01a00 ∷ drive 156325 0 0x01b00 ∷ drive 156380 0 0x05b00 ∷ drive 156380 7 0x08000 ∷ drive 156380 0 0x01a00 ∷ drive 156380 7 0x00000 ∷ drive 156380 0 0x03b00 ∷ drive 156780 0 0x07b00 ∷ drive 156780 7 0x08000 ∷ drive 156780 0 0x03a00 ∷ drive 156780 7 0x00000 ∷ drive 156780 0 0x00000 ∷ drive 216780 0 0x00201 ∷ drive 219180 0 0x00601 ∷ drive 220380 0 0x01781 ∷ drive 220470 0 0x01581 ∷ drive 220870 7 0x00200 ∷ drive 220870 0 0x01781 ∷ drive 220960 0 0x03a80 ∷ drive 220960 7 0x00000 ∷ drive 221360 0 0x07a80 ∷ drive 221360 7 0x08000 ∷ drive 221360 0 0x03a20 ∷ drive 221360 7 0x00000 ∷ drive 221415 0 0x07a20 ∷ drive 221415 7 0x08000 ∷ drive 221415 0 0x03a02 ∷ drive 221415 7 0x00000 ∷ drive 221470 0 0x07a02 ∷ drive 221470 7 0x08000 ∷ drive 221470 0 0x03a00 ∷ drive 221470 7 0x00000 ∷ drive 221470 0 0x00200 ∷ drive 221870 0 0x04200 ∷ drive 221870 7 0x00010 ∷ drive 221925 7 0x08010 ∷ drive 221925 0 0x00200 ∷ drive 221925 7 0x00000 ∷ drive 221925 0 0x04200 ∷ drive 221925 7 0x00111 ∷ drive 221980 7 0x08111 ∷ drive 221980 0 0x00200 ∷ drive 221980 7 0x00000 ∷ drive 221980 0 0x04200 ∷ drive 221980 7 0x00112 ∷ drive 222035 7 0x08112 ∷ drive 222035 0 0x00200 ∷ drive 222035 7 0x00000 ∷ drive 222035 0 0x04200 ∷ drive 222035 7 0x00013 ∷ drive 222090 7 0x08013 ∷ drive 222090 0 0x00200 ∷ drive 222090 7 0x00000 ∷ drive 222090 0 0x04200 ∷ drive 222090 7 0x00114 ∷ drive 222145 7 0x08114 ∷ drive 222145 0 0x00200 ∷ drive 222145 7 0x00000 ∷ drive 222145 0 0x04200 ∷ drive 222145 7 0x00015 ∷ drive 222200 7 0x08015 ∷ drive 222200 0 0x00200 ∷ drive 222200 7 0x00000 ∷ drive 222200 0 0x04200 ∷ drive 222200 7 0x00016 ∷ drive 222255 7 0x08016 ∷ drive 222255 0 0x00200 ∷ drive 222255 7 0x00000 ∷ drive 222255 0 0x04200 ∷ drive 222255 7 0x00117 ∷ drive 222310 7 0x08117 ∷ drive 222310 0 0x00200 ∷ drive 222310 7 0x00000 ∷ drive 222310 0 0x04200 ∷ drive 222310 7 0x00118 ∷ drive 222365 7 0x08118 ∷ drive 222365 0 0x00200 ∷ drive 222365 7 0x00000 ∷ drive 222365 0 0x04200 ∷ drive 222365 7 0x00019 ∷ drive 222420 7 0x08019 ∷ drive 222420 0 0x00200 ∷ drive 222420 7 0x00000 ∷ drive 222420 0 0x04200 ∷ drive 222420 7 0x0001a ∷ drive 222475 7 0x0801a ∷ drive 222475 0 0x00200 ∷ drive 222475 7 0x00000 ∷ drive 222475 0 0x04200 ∷ drive 222475 7 0x0011b ∷ drive 222530 7 0x0811b ∷ drive 222530 0 0x00200 ∷ drive 222530 7 0x00000 ∷ drive 222530 0 0x04200 ∷ drive 222530 7 0x0001c ∷ drive 222585 7 0x0801c ∷ drive 222585 0 0x00200 ∷ drive 222585 7 0x00000 ∷ drive 222585 0 0x04200 ∷ drive 222585 7 0x0011d ∷ drive 222640 7 0x0811d ∷ drive 222640 0 0x00200 ∷ drive 222640 7 0x00000 ∷ drive 222640 0 0x04200 ∷ drive 222640 7 0x0011e ∷ drive 222695 7 0x0811e ∷ drive 222695 0 0x00200 ∷ drive 222695 7 0x00000 ∷ drive 222695 0 0x04200 ∷ drive 222695 7 0x0001f ∷ drive 222750 7 0x0801f ∷ drive 222750 0 0x00200 ∷ drive 222750 7 0x00000 ∷ drive 222750 0 0x01a00 ∷ drive 223550 0 0x01b00 ∷ drive 223605 0 0x05b00 ∷ drive 223605 7 0x08000 ∷ drive 223605 0 0x01a00 ∷ drive 223605 7 0x00000 ∷ drive 223605 0 0x03b00 ∷ drive 224005 0 0x07b00 ∷ drive 224005 7 0x08000 ∷ drive 224005 0 0x03a00 ∷ drive 224005 7 0x00000 ∷ drive 224005 0 0x00000 ∷ []

abbrev held_told_events : List Item
held_told_events = items.Arrive (process 6 0 (Some 0) (Some 1) 1) ∷ items.Arrive (process 7 0 (Some 0) (Some 2) 1) ∷ items.Ready (process 6 0 (Some 0) (Some 1) 1) ∷ items.End (process 6 0 (Some 0) (Some 1) 1) (Some 2) ∷ items.Arrive (process 7 0 (Some 0) (Some 3) 1) ∷ items.Arrive (process 6 0 (Some 0) None 1) ∷ items.Ready (process 6 0 (Some 0) None 1) ∷ items.End (process 6 0 (Some 0) None 1) (Some 0) ∷ items.Ready (process 7 0 (Some 0) (Some 3) 1) ∷ items.End (process 7 0 (Some 0) (Some 3) 1) (Some 0) ∷ items.Ready (process 7 0 (Some 0) (Some 2) 1) ∷ items.End (process 7 0 (Some 0) (Some 2) 1) (Some 0) ∷ []

held_told_shown : events_shown held_told (reverse held_told_rows) ≡ held_told_events
unfolding need_of sent_of ones union_below line_of form_out form_in by_change closed_by
held_told_shown = refl

held_told_named : named_history held_told (reverse held_told_rows) ≡ held_told_events
unfolding need_of sent_of ones union_below line_of form_out form_in by_change closed_by
held_told_named = refl

pub held_told_alike : TellsHistory held_told (reverse held_told_rows)
held_told_alike = held_told_shown ∙ sym held_told_named

-- ---- refusals_told

abbrev refusals_told : ScenarioValue
refusals_told = record {
  version = 1;
  hosts = record { dev = 6; latency = 100; most = 8; retries = 5; period = 0; offset = 0; lag = 0; offers = true } ∷ record { dev = 7; latency = 0; most = 1; retries = 0; period = 0; offset = 0; lag = 0; offers = true } ∷ record { dev = 4; latency = 0; most = 4; retries = 0; period = 0; offset = 0; lag = 500; offers = true } ∷ [];
  targets = record { dev = 1; latency = 100; retries = 16; disc = policies.NoSave 1; pick = picks.Last; seek = 3000; period = 0; offset = 0; begins = false } ∷ [];
  units = record { target = 1; unit = 4; blocks = 1; size = 16; depth = 1 } ∷ [];
  fills = [];
  tapes = [];
  loads = [];
  commands = record { host = 7; target = 1; unit = 4; at = 0; tag = tags.Ordered 255; cdb = (3 ∷ 2 ∷ 0 ∷ 0 ∷ 18 ∷ 0 ∷ []); payload = payloads.Nothing } ∷ record { host = 6; target = 1; unit = 4; at = 0; tag = tags.Simple 1; cdb = (8 ∷ 0 ∷ 0 ∷ 0 ∷ 1 ∷ 0 ∷ []); payload = payloads.Nothing } ∷ record { host = 4; target = 1; unit = 4; at = 0; tag = tags.Simple 2; cdb = (10 ∷ 0 ∷ 0 ∷ 0 ∷ 1 ∷ 0 ∷ []); payload = payloads.From 47 } ∷ record { host = 6; target = 1; unit = 4; at = 0; tag = tags.Head 0; cdb = (0 ∷ 0 ∷ 0 ∷ 0 ∷ 0 ∷ 0 ∷ []); payload = payloads.Nothing } ∷ record { host = 7; target = 1; unit = 4; at = 0; tag = tags.Simple 4; cdb = (18 ∷ 2 ∷ 0 ∷ 0 ∷ 36 ∷ 0 ∷ []); payload = payloads.Nothing } ∷ [];
  aborts = [];
  resets = [];
  faults = [];
}

abbrev pub refusals_told_rows : List Row
refusals_told_rows = drive 1200 7 0x00280 ∷ drive 1200 4 0x00210 ∷ drive 1300 6 0x00240 ∷ drive 3600 7 0x00680 ∷ drive 3600 4 0x00000 ∷ drive 3700 6 0x00000 ∷ drive 4800 7 0x10782 ∷ drive 4890 7 0x10582 ∷ drive 5390 1 0x00200 ∷ drive 5480 7 0x10000 ∷ drive 5580 1 0x02a00 ∷ drive 6080 1 0x06a00 ∷ drive 6080 7 0x100c4 ∷ drive 6135 7 0x180c4 ∷ drive 6235 1 0x02a00 ∷ drive 6235 7 0x10000 ∷ drive 6335 1 0x06a00 ∷ drive 6335 7 0x10122 ∷ drive 6390 7 0x18122 ∷ drive 6490 1 0x02a00 ∷ drive 6490 7 0x10000 ∷ drive 6590 1 0x06a00 ∷ drive 6590 7 0x001ff ∷ drive 6680 7 0x081ff ∷ drive 6780 1 0x02a00 ∷ drive 6780 7 0x00000 ∷ drive 6880 1 0x00a00 ∷ drive 7380 1 0x04a00 ∷ drive 7380 7 0x00103 ∷ drive 7435 7 0x08103 ∷ drive 7535 1 0x00a00 ∷ drive 7535 7 0x00000 ∷ drive 7635 1 0x04a00 ∷ drive 7635 7 0x00002 ∷ drive 7690 7 0x08002 ∷ drive 7790 1 0x00a00 ∷ drive 7790 7 0x00000 ∷ drive 7890 1 0x04a00 ∷ drive 7890 7 0x00100 ∷ drive 7945 7 0x08100 ∷ drive 8045 1 0x00a00 ∷ drive 8045 7 0x00000 ∷ drive 8145 1 0x04a00 ∷ drive 8145 7 0x00100 ∷ drive 8200 7 0x08100 ∷ drive 8300 1 0x00a00 ∷ drive 8300 7 0x00000 ∷ drive 8400 1 0x04a00 ∷ drive 8400 7 0x00112 ∷ drive 8455 7 0x08112 ∷ drive 8555 1 0x00a00 ∷ drive 8555 7 0x00000 ∷ drive 8655 1 0x04a00 ∷ drive 8655 7 0x00100 ∷ drive 8710 7 0x08100 ∷ drive 8810 1 0x00a00 ∷ drive 8810 7 0x00000 ∷ drive 8910 1 0x03a00 ∷ drive 9810 1 0x03a04 ∷ drive 9965 1 0x07a04 ∷ drive 9965 7 0x08000 ∷ drive 10065 1 0x03a00 ∷ drive 10065 7 0x00000 ∷ drive 10165 1 0x00000 ∷ drive 11365 4 0x00210 ∷ drive 11465 6 0x00240 ∷ drive 12010 1 0x00202 ∷ drive 13965 6 0x00640 ∷ drive 13965 4 0x00000 ∷ drive 14065 1 0x00000 ∷ drive 15265 6 0x10742 ∷ drive 15455 6 0x10542 ∷ drive 15955 1 0x00200 ∷ drive 16145 6 0x10000 ∷ drive 16245 1 0x02a00 ∷ drive 16745 1 0x06a00 ∷ drive 16845 6 0x100c4 ∷ drive 17000 6 0x180c4 ∷ drive 17100 1 0x02a00 ∷ drive 17200 6 0x10000 ∷ drive 17300 1 0x06a00 ∷ drive 17400 6 0x10020 ∷ drive 17555 6 0x18020 ∷ drive 17655 1 0x02a00 ∷ drive 17755 6 0x10000 ∷ drive 17855 1 0x06a00 ∷ drive 17955 6 0x00001 ∷ drive 18145 6 0x08001 ∷ drive 18245 1 0x02a00 ∷ drive 18345 6 0x00000 ∷ drive 18445 1 0x00a00 ∷ drive 18945 1 0x04a00 ∷ drive 19045 6 0x00008 ∷ drive 19200 6 0x08008 ∷ drive 19300 1 0x00a00 ∷ drive 19400 6 0x00000 ∷ drive 19500 1 0x04a00 ∷ drive 19600 6 0x00100 ∷ drive 19755 6 0x08100 ∷ drive 19855 1 0x00a00 ∷ drive 19955 6 0x00000 ∷ drive 20055 1 0x04a00 ∷ drive 20155 6 0x00100 ∷ drive 20310 6 0x08100 ∷ drive 20410 1 0x00a00 ∷ drive 20510 6 0x00000 ∷ drive 20610 1 0x04a00 ∷ drive 20710 6 0x00100 ∷ drive 20865 6 0x08100 ∷ drive 20965 1 0x00a00 ∷ drive 21065 6 0x00000 ∷ drive 21165 1 0x04a00 ∷ drive 21265 6 0x00001 ∷ drive 21420 6 0x08001 ∷ drive 21520 1 0x00a00 ∷ drive 21620 6 0x00000 ∷ drive 21720 1 0x04a00 ∷ drive 21820 6 0x00100 ∷ drive 21975 6 0x08100 ∷ drive 22075 1 0x00a00 ∷ drive 22175 6 0x00000 ∷ drive 22275 1 0x01a00 ∷ drive 23175 1 0x01b28 ∷ drive 23330 1 0x05b28 ∷ drive 23430 6 0x08000 ∷ drive 23530 1 0x01a00 ∷ drive 23630 6 0x00000 ∷ drive 23730 1 0x03b00 ∷ drive 24230 1 0x07b00 ∷ drive 24330 6 0x08000 ∷ drive 24430 1 0x03a00 ∷ drive 24530 6 0x00000 ∷ drive 24630 1 0x00000 ∷ drive 25830 4 0x00210 ∷ drive 25930 6 0x00240 ∷ drive 25930 1 0x00202 ∷ drive 28430 6 0x00640 ∷ drive 28430 4 0x00000 ∷ drive 28530 1 0x00000 ∷ drive 29730 6 0x10742 ∷ drive 29920 6 0x10542 ∷ drive 30420 1 0x00200 ∷ drive 30610 6 0x10000 ∷ drive 30710 1 0x02a00 ∷ drive 31210 1 0x06a00 ∷ drive 31310 6 0x100c4 ∷ drive 31465 6 0x180c4 ∷ drive 31565 1 0x02a00 ∷ drive 31665 6 0x10000 ∷ drive 31765 1 0x06a00 ∷ drive 31865 6 0x10121 ∷ drive 32020 6 0x18121 ∷ drive 32120 1 0x02a00 ∷ drive 32220 6 0x10000 ∷ drive 32320 1 0x06a00 ∷ drive 32420 6 0x00100 ∷ drive 32610 6 0x08100 ∷ drive 32710 1 0x02a00 ∷ drive 32810 6 0x00000 ∷ drive 32910 1 0x00a00 ∷ drive 33410 1 0x04a00 ∷ drive 33510 6 0x00100 ∷ drive 33665 6 0x08100 ∷ drive 33765 1 0x00a00 ∷ drive 33865 6 0x00000 ∷ drive 33965 1 0x04a00 ∷ drive 34065 6 0x00100 ∷ drive 34220 6 0x08100 ∷ drive 34320 1 0x00a00 ∷ drive 34420 6 0x00000 ∷ drive 34520 1 0x04a00 ∷ drive 34620 6 0x00100 ∷ drive 34775 6 0x08100 ∷ drive 34875 1 0x00a00 ∷ drive 34975 6 0x00000 ∷ drive 35075 1 0x04a00 ∷ drive 35175 6 0x00100 ∷ drive 35330 6 0x08100 ∷ drive 35430 1 0x00a00 ∷ drive 35530 6 0x00000 ∷ drive 35630 1 0x04a00 ∷ drive 35730 6 0x00100 ∷ drive 35885 6 0x08100 ∷ drive 35985 1 0x00a00 ∷ drive 36085 6 0x00000 ∷ drive 36185 1 0x04a00 ∷ drive 36285 6 0x00100 ∷ drive 36440 6 0x08100 ∷ drive 36540 1 0x00a00 ∷ drive 36640 6 0x00000 ∷ drive 36740 1 0x01a00 ∷ drive 37640 1 0x01b28 ∷ drive 37795 1 0x05b28 ∷ drive 37895 6 0x08000 ∷ drive 37995 1 0x01a00 ∷ drive 38095 6 0x00000 ∷ drive 38195 1 0x03b00 ∷ drive 38695 1 0x07b00 ∷ drive 38795 6 0x08000 ∷ drive 38895 1 0x03a00 ∷ drive 38995 6 0x00000 ∷ drive 39095 1 0x00000 ∷ drive 40295 4 0x00210 ∷ drive 40395 1 0x00202 ∷ drive 42695 4 0x00610 ∷ drive 42795 1 0x00000 ∷ drive 43895 4 0x10712 ∷ drive 43985 4 0x10512 ∷ drive 44485 1 0x00200 ∷ drive 44575 4 0x10000 ∷ drive 44675 1 0x02a00 ∷ drive 45175 1 0x06a00 ∷ drive 45175 4 0x100c4 ∷ drive 45230 4 0x180c4 ∷ drive 45330 1 0x02a00 ∷ drive 45330 4 0x10000 ∷ drive 45430 1 0x06a00 ∷ drive 45430 4 0x10020 ∷ drive 45485 4 0x18020 ∷ drive 45585 1 0x02a00 ∷ drive 45585 4 0x10000 ∷ drive 45685 1 0x06a00 ∷ drive 45685 4 0x00002 ∷ drive 45775 4 0x08002 ∷ drive 45875 1 0x02a00 ∷ drive 45875 4 0x00000 ∷ drive 45975 1 0x00a00 ∷ drive 46475 1 0x04a00 ∷ drive 46475 4 0x0010a ∷ drive 46530 4 0x0810a ∷ drive 46630 1 0x00a00 ∷ drive 46630 4 0x00000 ∷ drive 46730 1 0x04a00 ∷ drive 46730 4 0x00100 ∷ drive 46785 4 0x08100 ∷ drive 46885 1 0x00a00 ∷ drive 46885 4 0x00000 ∷ drive 46985 1 0x04a00 ∷ drive 46985 4 0x00100 ∷ drive 47040 4 0x08100 ∷ drive 47140 1 0x00a00 ∷ drive 47140 4 0x00000 ∷ drive 47240 1 0x04a00 ∷ drive 47240 4 0x00100 ∷ drive 47295 4 0x08100 ∷ drive 47395 1 0x00a00 ∷ drive 47395 4 0x00000 ∷ drive 47495 1 0x04a00 ∷ drive 47495 4 0x00001 ∷ drive 47550 4 0x08001 ∷ drive 47650 1 0x00a00 ∷ drive 47650 4 0x00000 ∷ drive 47750 1 0x04a00 ∷ drive 47750 4 0x00100 ∷ drive 47805 4 0x08100 ∷ drive 47905 1 0x00a00 ∷ drive 47905 4 0x00000 ∷ drive 48005 1 0x01a00 ∷ drive 48905 1 0x01b28 ∷ drive 49060 1 0x05b28 ∷ drive 49060 4 0x08000 ∷ drive 49160 1 0x01a00 ∷ drive 49160 4 0x00000 ∷ drive 49260 1 0x03b00 ∷ drive 49760 1 0x07b00 ∷ drive 49760 4 0x08000 ∷ drive 49860 1 0x03a00 ∷ drive 49860 4 0x00000 ∷ drive 49960 1 0x00000 ∷ drive 51260 1 0x00202 ∷ drive 53760 1 0x00602 ∷ drive 55060 1 0x01782 ∷ drive 55250 1 0x01582 ∷ drive 55650 7 0x00200 ∷ drive 55750 1 0x01782 ∷ drive 55940 1 0x03b84 ∷ drive 55940 7 0x00000 ∷ drive 56440 1 0x07b84 ∷ drive 56440 7 0x08000 ∷ drive 56540 1 0x03a20 ∷ drive 56540 7 0x00000 ∷ drive 56695 1 0x07a20 ∷ drive 56695 7 0x08000 ∷ drive 56795 1 0x03bff ∷ drive 56795 7 0x00000 ∷ drive 56950 1 0x07bff ∷ drive 56950 7 0x08000 ∷ drive 57050 1 0x03a00 ∷ drive 57050 7 0x00000 ∷ drive 57150 1 0x01a02 ∷ drive 57650 1 0x05a02 ∷ drive 57650 7 0x08000 ∷ drive 57750 1 0x01a00 ∷ drive 57750 7 0x00000 ∷ drive 57850 1 0x03b00 ∷ drive 58350 1 0x07b00 ∷ drive 58350 7 0x08000 ∷ drive 58450 1 0x03a00 ∷ drive 58450 7 0x00000 ∷ drive 58550 1 0x00000 ∷ drive 59750 7 0x00280 ∷ drive 62150 7 0x00680 ∷ drive 63350 7 0x10782 ∷ drive 63440 7 0x10582 ∷ drive 63940 1 0x00200 ∷ drive 64030 7 0x10000 ∷ drive 64130 1 0x02a00 ∷ drive 64630 1 0x06a00 ∷ drive 64630 7 0x00184 ∷ drive 64720 7 0x08184 ∷ drive 64820 1 0x02a00 ∷ drive 64820 7 0x00000 ∷ drive 64920 1 0x00a00 ∷ drive 65420 1 0x04a00 ∷ drive 65420 7 0x00103 ∷ drive 65475 7 0x08103 ∷ drive 65575 1 0x00a00 ∷ drive 65575 7 0x00000 ∷ drive 65675 1 0x04a00 ∷ drive 65675 7 0x00100 ∷ drive 65730 7 0x08100 ∷ drive 65830 1 0x00a00 ∷ drive 65830 7 0x00000 ∷ drive 65930 1 0x04a00 ∷ drive 65930 7 0x00100 ∷ drive 65985 7 0x08100 ∷ drive 66085 1 0x00a00 ∷ drive 66085 7 0x00000 ∷ drive 66185 1 0x04a00 ∷ drive 66185 7 0x00100 ∷ drive 66240 7 0x08100 ∷ drive 66340 1 0x00a00 ∷ drive 66340 7 0x00000 ∷ drive 66440 1 0x04a00 ∷ drive 66440 7 0x00112 ∷ drive 66495 7 0x08112 ∷ drive 66595 1 0x00a00 ∷ drive 66595 7 0x00000 ∷ drive 66695 1 0x04a00 ∷ drive 66695 7 0x00100 ∷ drive 66750 7 0x08100 ∷ drive 66850 1 0x00a00 ∷ drive 66850 7 0x00000 ∷ drive 66950 1 0x01200 ∷ drive 67850 1 0x01270 ∷ drive 68005 1 0x05270 ∷ drive 68005 7 0x08000 ∷ drive 68105 1 0x01300 ∷ drive 68105 7 0x00000 ∷ drive 68260 1 0x05300 ∷ drive 68260 7 0x08000 ∷ drive 68360 1 0x01305 ∷ drive 68360 7 0x00000 ∷ drive 68515 1 0x05305 ∷ drive 68515 7 0x08000 ∷ drive 68615 1 0x01300 ∷ drive 68615 7 0x00000 ∷ drive 68770 1 0x05300 ∷ drive 68770 7 0x08000 ∷ drive 68870 1 0x01300 ∷ drive 68870 7 0x00000 ∷ drive 69025 1 0x05300 ∷ drive 69025 7 0x08000 ∷ drive 69125 1 0x01300 ∷ drive 69125 7 0x00000 ∷ drive 69280 1 0x05300 ∷ drive 69280 7 0x08000 ∷ drive 69380 1 0x01300 ∷ drive 69380 7 0x00000 ∷ drive 69535 1 0x05300 ∷ drive 69535 7 0x08000 ∷ drive 69635 1 0x0130a ∷ drive 69635 7 0x00000 ∷ drive 69790 1 0x0530a ∷ drive 69790 7 0x08000 ∷ drive 69890 1 0x01300 ∷ drive 69890 7 0x00000 ∷ drive 70045 1 0x05300 ∷ drive 70045 7 0x08000 ∷ drive 70145 1 0x01300 ∷ drive 70145 7 0x00000 ∷ drive 70300 1 0x05300 ∷ drive 70300 7 0x08000 ∷ drive 70400 1 0x01300 ∷ drive 70400 7 0x00000 ∷ drive 70555 1 0x05300 ∷ drive 70555 7 0x08000 ∷ drive 70655 1 0x01300 ∷ drive 70655 7 0x00000 ∷ drive 70810 1 0x05300 ∷ drive 70810 7 0x08000 ∷ drive 70910 1 0x01324 ∷ drive 70910 7 0x00000 ∷ drive 71065 1 0x05324 ∷ drive 71065 7 0x08000 ∷ drive 71165 1 0x01300 ∷ drive 71165 7 0x00000 ∷ drive 71320 1 0x05300 ∷ drive 71320 7 0x08000 ∷ drive 71420 1 0x01300 ∷ drive 71420 7 0x00000 ∷ drive 71575 1 0x05300 ∷ drive 71575 7 0x08000 ∷ drive 71675 1 0x01300 ∷ drive 71675 7 0x00000 ∷ drive 71830 1 0x05300 ∷ drive 71830 7 0x08000 ∷ drive 71930 1 0x01300 ∷ drive 71930 7 0x00000 ∷ drive 72085 1 0x05300 ∷ drive 72085 7 0x08000 ∷ drive 72185 1 0x01300 ∷ drive 72185 7 0x00000 ∷ drive 72340 1 0x05300 ∷ drive 72340 7 0x08000 ∷ drive 72440 1 0x01200 ∷ drive 72440 7 0x00000 ∷ drive 72540 1 0x01b00 ∷ drive 73040 1 0x05b00 ∷ drive 73040 7 0x08000 ∷ drive 73140 1 0x01a00 ∷ drive 73140 7 0x00000 ∷ drive 73240 1 0x03b00 ∷ drive 73740 1 0x07b00 ∷ drive 73740 7 0x08000 ∷ drive 73840 1 0x03a00 ∷ drive 73840 7 0x00000 ∷ drive 73940 1 0x00000 ∷ drive 75140 7 0x00280 ∷ drive 77540 7 0x00680 ∷ drive 78740 7 0x10782 ∷ drive 78830 7 0x10582 ∷ drive 79330 1 0x00200 ∷ drive 79420 7 0x10000 ∷ drive 79520 1 0x02a00 ∷ drive 80020 1 0x06a00 ∷ drive 80020 7 0x100c4 ∷ drive 80075 7 0x180c4 ∷ drive 80175 1 0x02a00 ∷ drive 80175 7 0x10000 ∷ drive 80275 1 0x06a00 ∷ drive 80275 7 0x10020 ∷ drive 80330 7 0x18020 ∷ drive 80430 1 0x02a00 ∷ drive 80430 7 0x10000 ∷ drive 80530 1 0x06a00 ∷ drive 80530 7 0x00004 ∷ drive 80620 7 0x08004 ∷ drive 80720 1 0x02a00 ∷ drive 80720 7 0x00000 ∷ drive 80820 1 0x00a00 ∷ drive 81320 1 0x04a00 ∷ drive 81320 7 0x00112 ∷ drive 81375 7 0x08112 ∷ drive 81475 1 0x00a00 ∷ drive 81475 7 0x00000 ∷ drive 81575 1 0x04a00 ∷ drive 81575 7 0x00002 ∷ drive 81630 7 0x08002 ∷ drive 81730 1 0x00a00 ∷ drive 81730 7 0x00000 ∷ drive 81830 1 0x04a00 ∷ drive 81830 7 0x00100 ∷ drive 81885 7 0x08100 ∷ drive 81985 1 0x00a00 ∷ drive 81985 7 0x00000 ∷ drive 82085 1 0x04a00 ∷ drive 82085 7 0x00100 ∷ drive 82140 7 0x08100 ∷ drive 82240 1 0x00a00 ∷ drive 82240 7 0x00000 ∷ drive 82340 1 0x04a00 ∷ drive 82340 7 0x00124 ∷ drive 82395 7 0x08124 ∷ drive 82495 1 0x00a00 ∷ drive 82495 7 0x00000 ∷ drive 82595 1 0x04a00 ∷ drive 82595 7 0x00100 ∷ drive 82650 7 0x08100 ∷ drive 82750 1 0x00a00 ∷ drive 82750 7 0x00000 ∷ drive 82850 1 0x03a00 ∷ drive 83750 1 0x03a04 ∷ drive 83905 1 0x07a04 ∷ drive 83905 7 0x08000 ∷ drive 84005 1 0x03a00 ∷ drive 84005 7 0x00000 ∷ drive 84105 1 0x00000 ∷ drive 85950 1 0x00202 ∷ drive 88450 1 0x00602 ∷ drive 89750 1 0x01782 ∷ drive 89940 1 0x01582 ∷ drive 90340 7 0x00200 ∷ drive 90440 1 0x01782 ∷ drive 90630 1 0x03b84 ∷ drive 90630 7 0x00000 ∷ drive 91130 1 0x07b84 ∷ drive 91130 7 0x08000 ∷ drive 91230 1 0x03a20 ∷ drive 91230 7 0x00000 ∷ drive 91385 1 0x07a20 ∷ drive 91385 7 0x08000 ∷ drive 91485 1 0x03a04 ∷ drive 91485 7 0x00000 ∷ drive 91640 1 0x07a04 ∷ drive 91640 7 0x08000 ∷ drive 91740 1 0x03a00 ∷ drive 91740 7 0x00000 ∷ drive 91840 1 0x01a02 ∷ drive 92340 1 0x05a02 ∷ drive 92340 7 0x08000 ∷ drive 92440 1 0x01a00 ∷ drive 92440 7 0x00000 ∷ drive 92540 1 0x03b00 ∷ drive 93040 1 0x07b00 ∷ drive 93040 7 0x08000 ∷ drive 93140 1 0x03a00 ∷ drive 93140 7 0x00000 ∷ drive 93240 1 0x00000 ∷ drive 94440 7 0x00280 ∷ drive 96840 7 0x00680 ∷ drive 98040 7 0x10782 ∷ drive 98130 7 0x10582 ∷ drive 98630 1 0x00200 ∷ drive 98720 7 0x10000 ∷ drive 98820 1 0x02a00 ∷ drive 99320 1 0x06a00 ∷ drive 99320 7 0x00184 ∷ drive 99410 7 0x08184 ∷ drive 99510 1 0x02a00 ∷ drive 99510 7 0x00000 ∷ drive 99610 1 0x00a00 ∷ drive 100110 1 0x04a00 ∷ drive 100110 7 0x00103 ∷ drive 100165 7 0x08103 ∷ drive 100265 1 0x00a00 ∷ drive 100265 7 0x00000 ∷ drive 100365 1 0x04a00 ∷ drive 100365 7 0x00100 ∷ drive 100420 7 0x08100 ∷ drive 100520 1 0x00a00 ∷ drive 100520 7 0x00000 ∷ drive 100620 1 0x04a00 ∷ drive 100620 7 0x00100 ∷ drive 100675 7 0x08100 ∷ drive 100775 1 0x00a00 ∷ drive 100775 7 0x00000 ∷ drive 100875 1 0x04a00 ∷ drive 100875 7 0x00100 ∷ drive 100930 7 0x08100 ∷ drive 101030 1 0x00a00 ∷ drive 101030 7 0x00000 ∷ drive 101130 1 0x04a00 ∷ drive 101130 7 0x00112 ∷ drive 101185 7 0x08112 ∷ drive 101285 1 0x00a00 ∷ drive 101285 7 0x00000 ∷ drive 101385 1 0x04a00 ∷ drive 101385 7 0x00100 ∷ drive 101440 7 0x08100 ∷ drive 101540 1 0x00a00 ∷ drive 101540 7 0x00000 ∷ drive 101640 1 0x01200 ∷ drive 102540 1 0x01270 ∷ drive 102695 1 0x05270 ∷ drive 102695 7 0x08000 ∷ drive 102795 1 0x01300 ∷ drive 102795 7 0x00000 ∷ drive 102950 1 0x05300 ∷ drive 102950 7 0x08000 ∷ drive 103050 1 0x01305 ∷ drive 103050 7 0x00000 ∷ drive 103205 1 0x05305 ∷ drive 103205 7 0x08000 ∷ drive 103305 1 0x01300 ∷ drive 103305 7 0x00000 ∷ drive 103460 1 0x05300 ∷ drive 103460 7 0x08000 ∷ drive 103560 1 0x01300 ∷ drive 103560 7 0x00000 ∷ drive 103715 1 0x05300 ∷ drive 103715 7 0x08000 ∷ drive 103815 1 0x01300 ∷ drive 103815 7 0x00000 ∷ drive 103970 1 0x05300 ∷ drive 103970 7 0x08000 ∷ drive 104070 1 0x01300 ∷ drive 104070 7 0x00000 ∷ drive 104225 1 0x05300 ∷ drive 104225 7 0x08000 ∷ drive 104325 1 0x0130a ∷ drive 104325 7 0x00000 ∷ drive 104480 1 0x0530a ∷ drive 104480 7 0x08000 ∷ drive 104580 1 0x01300 ∷ drive 104580 7 0x00000 ∷ drive 104735 1 0x05300 ∷ drive 104735 7 0x08000 ∷ drive 104835 1 0x01300 ∷ drive 104835 7 0x00000 ∷ drive 104990 1 0x05300 ∷ drive 104990 7 0x08000 ∷ drive 105090 1 0x01300 ∷ drive 105090 7 0x00000 ∷ drive 105245 1 0x05300 ∷ drive 105245 7 0x08000 ∷ drive 105345 1 0x01300 ∷ drive 105345 7 0x00000 ∷ drive 105500 1 0x05300 ∷ drive 105500 7 0x08000 ∷ drive 105600 1 0x01324 ∷ drive 105600 7 0x00000 ∷ drive 105755 1 0x05324 ∷ drive 105755 7 0x08000 ∷ drive 105855 1 0x01300 ∷ drive 105855 7 0x00000 ∷ drive 106010 1 0x05300 ∷ drive 106010 7 0x08000 ∷ drive 106110 1 0x01300 ∷ drive 106110 7 0x00000 ∷ drive 106265 1 0x05300 ∷ drive 106265 7 0x08000 ∷ drive 106365 1 0x01300 ∷ drive 106365 7 0x00000 ∷ drive 106520 1 0x05300 ∷ drive 106520 7 0x08000 ∷ drive 106620 1 0x01300 ∷ drive 106620 7 0x00000 ∷ drive 106775 1 0x05300 ∷ drive 106775 7 0x08000 ∷ drive 106875 1 0x01300 ∷ drive 106875 7 0x00000 ∷ drive 107030 1 0x05300 ∷ drive 107030 7 0x08000 ∷ drive 107130 1 0x01200 ∷ drive 107130 7 0x00000 ∷ drive 107230 1 0x01b00 ∷ drive 107730 1 0x05b00 ∷ drive 107730 7 0x08000 ∷ drive 107830 1 0x01a00 ∷ drive 107830 7 0x00000 ∷ drive 107930 1 0x03b00 ∷ drive 108430 1 0x07b00 ∷ drive 108430 7 0x08000 ∷ drive 108530 1 0x03a00 ∷ drive 108530 7 0x00000 ∷ drive 108630 1 0x00000 ∷ []

abbrev refusals_told_events : List Item
refusals_told_events = items.Arrive (process 7 1 (Some 4) (Some 255) 1) ∷ items.Arrive (process 6 1 (Some 4) (Some 1) 1) ∷ items.End (process 6 1 (Some 4) (Some 1) 1) (Some 40) ∷ items.Arrive (process 6 1 (Some 4) (Some 0) 1) ∷ items.End (process 6 1 (Some 4) (Some 0) 1) (Some 40) ∷ items.Arrive (process 4 1 (Some 4) (Some 2) 1) ∷ items.End (process 4 1 (Some 4) (Some 2) 1) (Some 40) ∷ items.Ready (process 7 1 (Some 4) (Some 255) 1) ∷ items.End (process 7 1 (Some 4) (Some 255) 1) (Some 2) ∷ items.Arrive (process 7 1 (Some 4) None 1) ∷ items.Ready (process 7 1 (Some 4) None 1) ∷ items.End (process 7 1 (Some 4) None 1) (Some 0) ∷ items.Arrive (process 7 1 (Some 4) (Some 4) 1) ∷ items.Ready (process 7 1 (Some 4) (Some 4) 1) ∷ items.End (process 7 1 (Some 4) (Some 4) 1) (Some 2) ∷ items.Arrive (process 7 1 (Some 4) None 2) ∷ items.Ready (process 7 1 (Some 4) None 2) ∷ items.End (process 7 1 (Some 4) None 2) (Some 0) ∷ []

refusals_told_shown : events_shown refusals_told (reverse refusals_told_rows) ≡ refusals_told_events
unfolding need_of sent_of ones union_below line_of form_out form_in by_change closed_by
refusals_told_shown = refl

refusals_told_named : named_history refusals_told (reverse refusals_told_rows) ≡ refusals_told_events
unfolding need_of sent_of ones union_below line_of form_out form_in by_change closed_by
refusals_told_named = refl

pub refusals_told_alike : TellsHistory refusals_told (reverse refusals_told_rows)
refusals_told_alike = refusals_told_shown ∙ sym refusals_told_named

-- ---- resets_with_queues_told

abbrev resets_with_queues_told : ScenarioValue
resets_with_queues_told = record {
  version = 1;
  hosts = record { dev = 2; latency = 37; most = 1; retries = 0; period = 0; offset = 5; lag = 0; offers = true } ∷ record { dev = 7; latency = 100; most = 8; retries = 1; period = 0; offset = 0; lag = 0; offers = true } ∷ record { dev = 4; latency = 0; most = 2; retries = 1; period = 0; offset = 0; lag = 100; offers = true } ∷ record { dev = 5; latency = 0; most = 4; retries = 5; period = 0; offset = 5; lag = 100; offers = true } ∷ [];
  targets = record { dev = 1; latency = 100; retries = 5; disc = policies.Burst 3; pick = picks.Last; seek = 100000; period = 0; offset = 0; begins = false } ∷ [];
  units = record { target = 1; unit = 3; blocks = 2; size = 32; depth = 4 } ∷ record { target = 1; unit = 6; blocks = 8; size = 32; depth = 1 } ∷ [];
  fills = record { target = 1; unit = 3; lba = 0; bytes = (0 ∷ 95 ∷ 226 ∷ 188 ∷ 68 ∷ 113 ∷ 249 ∷ 0 ∷ 0 ∷ 139 ∷ 0 ∷ 163 ∷ 186 ∷ 247 ∷ 0 ∷ 0 ∷ 106 ∷ 11 ∷ 92 ∷ 0 ∷ 0 ∷ 253 ∷ 153 ∷ 90 ∷ 184 ∷ 0 ∷ 0 ∷ 0 ∷ 18 ∷ 0 ∷ 130 ∷ 120 ∷ []) } ∷ record { target = 1; unit = 6; lba = 0; bytes = (114 ∷ 0 ∷ 167 ∷ 0 ∷ 86 ∷ 0 ∷ 130 ∷ 101 ∷ 63 ∷ 220 ∷ 0 ∷ 204 ∷ 181 ∷ 36 ∷ 0 ∷ 0 ∷ 0 ∷ 118 ∷ 186 ∷ 38 ∷ 0 ∷ 106 ∷ 167 ∷ 154 ∷ 15 ∷ 95 ∷ 177 ∷ 78 ∷ 31 ∷ 126 ∷ 49 ∷ 0 ∷ []) } ∷ record { target = 1; unit = 6; lba = 7; bytes = (0 ∷ 231 ∷ 0 ∷ 0 ∷ 0 ∷ 0 ∷ 127 ∷ 190 ∷ 0 ∷ 225 ∷ 29 ∷ 125 ∷ 0 ∷ 245 ∷ 87 ∷ 151 ∷ 0 ∷ 0 ∷ 23 ∷ 187 ∷ 112 ∷ 0 ∷ 4 ∷ 138 ∷ 0 ∷ 221 ∷ 167 ∷ 253 ∷ 99 ∷ 67 ∷ 229 ∷ 144 ∷ []) } ∷ [];
  tapes = [];
  loads = [];
  commands = record { host = 4; target = 1; unit = 6; at = 0; tag = tags.Untagged; cdb = (8 ∷ 0 ∷ 0 ∷ 4 ∷ 2 ∷ 0 ∷ []); payload = payloads.Nothing } ∷ record { host = 7; target = 1; unit = 6; at = 0; tag = tags.Head 1; cdb = (10 ∷ 0 ∷ 0 ∷ 4 ∷ 1 ∷ 0 ∷ []); payload = payloads.From 138 } ∷ record { host = 5; target = 1; unit = 6; at = 0; tag = tags.Simple 2; cdb = (0 ∷ 0 ∷ 0 ∷ 0 ∷ 0 ∷ 0 ∷ []); payload = payloads.Nothing } ∷ record { host = 7; target = 1; unit = 6; at = 0; tag = tags.Untagged; cdb = (10 ∷ 0 ∷ 0 ∷ 5 ∷ 2 ∷ 0 ∷ []); payload = payloads.From 137 } ∷ record { host = 7; target = 1; unit = 3; at = 0; tag = tags.Simple 1; cdb = (8 ∷ 0 ∷ 0 ∷ 1 ∷ 1 ∷ 0 ∷ []); payload = payloads.Nothing } ∷ [];
  aborts = record { host = 5; target = 1; unit = 3; at = 301040; what = aborts.All } ∷ record { host = 7; target = 1; unit = 6; at = 120728; what = aborts.Device } ∷ record { host = 5; target = 1; unit = 6; at = 314639; what = aborts.WholeQueue } ∷ [];
  resets = record { dev = 5; at = 120745 } ∷ [];
  faults = record { at = 172497; bit = 6 } ∷ record { at = 213944; bit = 0 } ∷ record { at = 279541; bit = 8 } ∷ [];
}

abbrev pub resets_with_queues_told_rows : List Row
resets_with_queues_told_rows = drive 1200 5 0x00220 ∷ drive 1200 4 0x00210 ∷ drive 1300 7 0x00280 ∷ drive 3800 7 0x00680 ∷ drive 3800 5 0x00000 ∷ drive 3800 4 0x00000 ∷ drive 5100 7 0x10782 ∷ drive 5290 7 0x10582 ∷ drive 5790 1 0x00200 ∷ drive 5980 7 0x10000 ∷ drive 6080 1 0x02a00 ∷ drive 6580 1 0x06a00 ∷ drive 6680 7 0x101c6 ∷ drive 6835 7 0x181c6 ∷ drive 6935 1 0x02a00 ∷ drive 7035 7 0x10000 ∷ drive 7135 1 0x06a00 ∷ drive 7235 7 0x10121 ∷ drive 7390 7 0x18121 ∷ drive 7490 1 0x02a00 ∷ drive 7590 7 0x10000 ∷ drive 7690 1 0x06a00 ∷ drive 7790 7 0x00001 ∷ drive 7980 7 0x08001 ∷ drive 8080 1 0x02a00 ∷ drive 8180 7 0x00000 ∷ drive 8280 1 0x00a00 ∷ drive 8780 1 0x04a00 ∷ drive 8880 7 0x0010a ∷ drive 9035 7 0x0810a ∷ drive 9135 1 0x00a00 ∷ drive 9235 7 0x00000 ∷ drive 9335 1 0x04a00 ∷ drive 9435 7 0x00100 ∷ drive 9590 7 0x08100 ∷ drive 9690 1 0x00a00 ∷ drive 9790 7 0x00000 ∷ drive 9890 1 0x04a00 ∷ drive 9990 7 0x00100 ∷ drive 10145 7 0x08100 ∷ drive 10245 1 0x00a00 ∷ drive 10345 7 0x00000 ∷ drive 10445 1 0x04a00 ∷ drive 10545 7 0x00004 ∷ drive 10700 7 0x08004 ∷ drive 10800 1 0x00a00 ∷ drive 10900 7 0x00000 ∷ drive 11000 1 0x04a00 ∷ drive 11100 7 0x00001 ∷ drive 11255 7 0x08001 ∷ drive 11355 1 0x00a00 ∷ drive 11455 7 0x00000 ∷ drive 11555 1 0x04a00 ∷ drive 11655 7 0x00100 ∷ drive 11810 7 0x08100 ∷ drive 11910 1 0x00a00 ∷ drive 12010 7 0x00000 ∷ drive 12110 1 0x03a00 ∷ drive 13010 1 0x03a04 ∷ drive 13165 1 0x07a04 ∷ drive 13265 7 0x08000 ∷ drive 13365 1 0x03a00 ∷ drive 13465 7 0x00000 ∷ drive 13565 1 0x00000 ∷ drive 14765 5 0x00220 ∷ drive 14765 4 0x00210 ∷ drive 17165 5 0x00620 ∷ drive 17165 4 0x00000 ∷ drive 18365 5 0x10722 ∷ drive 18455 5 0x10522 ∷ drive 18955 1 0x00200 ∷ drive 19045 5 0x10000 ∷ drive 19145 1 0x02a00 ∷ drive 19645 1 0x06a00 ∷ drive 19645 5 0x101c6 ∷ drive 19700 5 0x181c6 ∷ drive 19800 1 0x02a00 ∷ drive 19800 5 0x10000 ∷ drive 19900 1 0x06a00 ∷ drive 19900 5 0x10020 ∷ drive 19955 5 0x18020 ∷ drive 20055 1 0x02a00 ∷ drive 20055 5 0x10000 ∷ drive 20155 1 0x06a00 ∷ drive 20155 5 0x00002 ∷ drive 20245 5 0x08002 ∷ drive 20345 1 0x02a00 ∷ drive 20345 5 0x00000 ∷ drive 20445 1 0x00a00 ∷ drive 20945 1 0x04a00 ∷ drive 20945 5 0x00100 ∷ drive 21000 5 0x08100 ∷ drive 21100 1 0x00a00 ∷ drive 21100 5 0x00000 ∷ drive 21200 1 0x04a00 ∷ drive 21200 5 0x00100 ∷ drive 21255 5 0x08100 ∷ drive 21355 1 0x00a00 ∷ drive 21355 5 0x00000 ∷ drive 21455 1 0x04a00 ∷ drive 21455 5 0x00100 ∷ drive 21510 5 0x08100 ∷ drive 21610 1 0x00a00 ∷ drive 21610 5 0x00000 ∷ drive 21710 1 0x04a00 ∷ drive 21710 5 0x00100 ∷ drive 21765 5 0x08100 ∷ drive 21865 1 0x00a00 ∷ drive 21865 5 0x00000 ∷ drive 21965 1 0x04a00 ∷ drive 21965 5 0x00100 ∷ drive 22020 5 0x08100 ∷ drive 22120 1 0x00a00 ∷ drive 22120 5 0x00000 ∷ drive 22220 1 0x04a00 ∷ drive 22220 5 0x00100 ∷ drive 22275 5 0x08100 ∷ drive 22375 1 0x00a00 ∷ drive 22375 5 0x00000 ∷ drive 22475 1 0x01a00 ∷ drive 23375 1 0x01b28 ∷ drive 23530 1 0x05b28 ∷ drive 23530 5 0x08000 ∷ drive 23630 1 0x01a00 ∷ drive 23630 5 0x00000 ∷ drive 23730 1 0x03b00 ∷ drive 24230 1 0x07b00 ∷ drive 24230 5 0x08000 ∷ drive 24330 1 0x03a00 ∷ drive 24330 5 0x00000 ∷ drive 24430 1 0x00000 ∷ drive 25630 4 0x00210 ∷ drive 28030 4 0x00610 ∷ drive 29230 4 0x10712 ∷ drive 29320 4 0x10512 ∷ drive 29820 1 0x00200 ∷ drive 29910 4 0x10000 ∷ drive 30010 1 0x02a00 ∷ drive 30510 1 0x06a00 ∷ drive 30510 4 0x001c6 ∷ drive 30600 4 0x081c6 ∷ drive 30700 1 0x02a00 ∷ drive 30700 4 0x00000 ∷ drive 30800 1 0x00a00 ∷ drive 31300 1 0x04a00 ∷ drive 31300 4 0x00008 ∷ drive 31355 4 0x08008 ∷ drive 31455 1 0x00a00 ∷ drive 31455 4 0x00000 ∷ drive 31555 1 0x04a00 ∷ drive 31555 4 0x00100 ∷ drive 31610 4 0x08100 ∷ drive 31710 1 0x00a00 ∷ drive 31710 4 0x00000 ∷ drive 31810 1 0x04a00 ∷ drive 31810 4 0x00100 ∷ drive 31865 4 0x08100 ∷ drive 31965 1 0x00a00 ∷ drive 31965 4 0x00000 ∷ drive 32065 1 0x04a00 ∷ drive 32065 4 0x00004 ∷ drive 32120 4 0x08004 ∷ drive 32220 1 0x00a00 ∷ drive 32220 4 0x00000 ∷ drive 32320 1 0x04a00 ∷ drive 32320 4 0x00002 ∷ drive 32375 4 0x08002 ∷ drive 32475 1 0x00a00 ∷ drive 32475 4 0x00000 ∷ drive 32575 1 0x04a00 ∷ drive 32575 4 0x00100 ∷ drive 32630 4 0x08100 ∷ drive 32730 1 0x00a00 ∷ drive 32730 4 0x00000 ∷ drive 32830 1 0x01a00 ∷ drive 33730 1 0x01b28 ∷ drive 33885 1 0x05b28 ∷ drive 33885 4 0x08000 ∷ drive 33985 1 0x01a00 ∷ drive 33985 4 0x00000 ∷ drive 34085 1 0x03b00 ∷ drive 34585 1 0x07b00 ∷ drive 34585 4 0x08000 ∷ drive 34685 1 0x03a00 ∷ drive 34685 4 0x00000 ∷ drive 34785 1 0x00000 ∷ drive 112210 1 0x00202 ∷ drive 114710 1 0x00602 ∷ drive 116010 1 0x01782 ∷ drive 116200 1 0x01582 ∷ drive 116700 7 0x00200 ∷ drive 116800 1 0x01782 ∷ drive 116990 1 0x03a86 ∷ drive 117090 7 0x00000 ∷ drive 117490 1 0x07a86 ∷ drive 117590 7 0x08000 ∷ drive 117690 1 0x03a20 ∷ drive 117790 7 0x00000 ∷ drive 117890 1 0x07a20 ∷ drive 117990 7 0x08000 ∷ drive 118090 1 0x03a01 ∷ drive 118190 7 0x00000 ∷ drive 118290 1 0x07a01 ∷ drive 118390 7 0x08000 ∷ drive 118490 1 0x03a00 ∷ drive 118590 7 0x00000 ∷ drive 118690 1 0x00200 ∷ drive 119190 1 0x04200 ∷ drive 119290 7 0x0008a ∷ drive 119445 7 0x0808a ∷ drive 119545 1 0x00200 ∷ drive 119645 7 0x00000 ∷ drive 119745 1 0x04200 ∷ drive 119845 7 0x0018b ∷ drive 120000 7 0x0818b ∷ drive 120100 1 0x00200 ∷ drive 120200 7 0x00000 ∷ drive 120300 1 0x04200 ∷ drive 120400 7 0x0008c ∷ drive 120555 7 0x0808c ∷ drive 120655 1 0x00200 ∷ drive 120745 5 0x20000 ∷ drive 120845 7 0x00000 ∷ drive 120845 1 0x00000 ∷ drive 145745 5 0x00000 ∷ drive 147045 7 0x00280 ∷ drive 149545 7 0x00680 ∷ drive 150845 7 0x10782 ∷ drive 151035 7 0x10582 ∷ drive 151535 1 0x00200 ∷ drive 151725 7 0x10000 ∷ drive 151825 1 0x02a00 ∷ drive 152325 1 0x06a00 ∷ drive 152425 7 0x10086 ∷ drive 152580 7 0x18086 ∷ drive 152680 1 0x02a00 ∷ drive 152780 7 0x10000 ∷ drive 152880 1 0x06a00 ∷ drive 152980 7 0x0010c ∷ drive 153170 7 0x0810c ∷ drive 153270 1 0x02a00 ∷ drive 153370 7 0x00000 ∷ drive 153470 1 0x00000 ∷ drive 154770 7 0x00280 ∷ drive 157270 7 0x00680 ∷ drive 158570 7 0x10782 ∷ drive 158760 7 0x10582 ∷ drive 159260 1 0x00200 ∷ drive 159450 7 0x10000 ∷ drive 159550 1 0x02a00 ∷ drive 160050 1 0x06a00 ∷ drive 160150 7 0x001c6 ∷ drive 160340 7 0x081c6 ∷ drive 160440 1 0x02a00 ∷ drive 160540 7 0x00000 ∷ drive 160640 1 0x00a00 ∷ drive 161140 1 0x04a00 ∷ drive 161240 7 0x0010a ∷ drive 161395 7 0x0810a ∷ drive 161495 1 0x00a00 ∷ drive 161595 7 0x00000 ∷ drive 161695 1 0x04a00 ∷ drive 161795 7 0x00100 ∷ drive 161950 7 0x08100 ∷ drive 162050 1 0x00a00 ∷ drive 162150 7 0x00000 ∷ drive 162250 1 0x04a00 ∷ drive 162350 7 0x00100 ∷ drive 162505 7 0x08100 ∷ drive 162605 1 0x00a00 ∷ drive 162705 7 0x00000 ∷ drive 162805 1 0x04a00 ∷ drive 162905 7 0x00105 ∷ drive 163060 7 0x08105 ∷ drive 163160 1 0x00a00 ∷ drive 163260 7 0x00000 ∷ drive 163360 1 0x04a00 ∷ drive 163460 7 0x00002 ∷ drive 163615 7 0x08002 ∷ drive 163715 1 0x00a00 ∷ drive 163815 7 0x00000 ∷ drive 163915 1 0x04a00 ∷ drive 164015 7 0x00100 ∷ drive 164170 7 0x08100 ∷ drive 164270 1 0x00a00 ∷ drive 164370 7 0x00000 ∷ drive 164470 1 0x03a00 ∷ drive 165370 1 0x03a04 ∷ drive 165525 1 0x07a04 ∷ drive 165625 7 0x08000 ∷ drive 165725 1 0x03a00 ∷ drive 165825 7 0x00000 ∷ drive 165925 1 0x00000 ∷ drive 167225 7 0x00280 ∷ drive 169725 7 0x00680 ∷ drive 171025 7 0x10782 ∷ drive 171215 7 0x10582 ∷ drive 171715 1 0x00200 ∷ drive 171905 7 0x10000 ∷ drive 172005 1 0x02a00 ∷ drive 172505 1 0x06a00 ∷ drive 172605 7 0x101c3 ∷ drive 172760 7 0x181c3 ∷ strike 172760 1 6 ∷ drive 172860 1 0x02a00 ∷ drive 172960 7 0x10000 ∷ drive 173060 1 0x06a00 ∷ drive 173160 7 0x10020 ∷ drive 173315 7 0x18020 ∷ drive 173415 1 0x02a00 ∷ drive 173515 7 0x10000 ∷ drive 173615 1 0x06a00 ∷ drive 173715 7 0x00001 ∷ drive 173905 7 0x08001 ∷ drive 174005 1 0x02a00 ∷ drive 174105 7 0x00000 ∷ drive 174205 1 0x06a00 ∷ drive 174305 7 0x101c3 ∷ drive 174495 7 0x181c3 ∷ drive 174595 1 0x02a00 ∷ drive 174695 7 0x10000 ∷ drive 174795 1 0x06a00 ∷ drive 174895 7 0x10020 ∷ drive 175050 7 0x18020 ∷ drive 175150 1 0x02a00 ∷ drive 175250 7 0x10000 ∷ drive 175350 1 0x06a00 ∷ drive 175450 7 0x00001 ∷ drive 175640 7 0x08001 ∷ drive 175740 1 0x02a00 ∷ drive 175840 7 0x00000 ∷ drive 175940 1 0x00a00 ∷ drive 176440 1 0x04a00 ∷ drive 176540 7 0x00008 ∷ drive 176695 7 0x08008 ∷ drive 176795 1 0x00a00 ∷ drive 176895 7 0x00000 ∷ drive 176995 1 0x04a00 ∷ drive 177095 7 0x00100 ∷ drive 177250 7 0x08100 ∷ drive 177350 1 0x00a00 ∷ drive 177450 7 0x00000 ∷ drive 177550 1 0x04a00 ∷ drive 177650 7 0x00100 ∷ drive 177805 7 0x08100 ∷ drive 177905 1 0x00a00 ∷ drive 178005 7 0x00000 ∷ drive 178105 1 0x04a00 ∷ drive 178205 7 0x00001 ∷ drive 178360 7 0x08001 ∷ drive 178460 1 0x00a00 ∷ drive 178560 7 0x00000 ∷ drive 178660 1 0x04a00 ∷ drive 178760 7 0x00001 ∷ drive 178915 7 0x08001 ∷ drive 179015 1 0x00a00 ∷ drive 179115 7 0x00000 ∷ drive 179215 1 0x04a00 ∷ drive 179315 7 0x00100 ∷ drive 179470 7 0x08100 ∷ drive 179570 1 0x00a00 ∷ drive 179670 7 0x00000 ∷ drive 179770 1 0x03a00 ∷ drive 180670 1 0x03a04 ∷ drive 180825 1 0x07a04 ∷ drive 180925 7 0x08000 ∷ drive 181025 1 0x03a00 ∷ drive 181125 7 0x00000 ∷ drive 181225 1 0x00000 ∷ drive 264570 1 0x00202 ∷ drive 267070 1 0x00602 ∷ drive 268370 1 0x01782 ∷ drive 268560 1 0x01582 ∷ strike 269060 7 0 ∷ drive 250268660 1 0x01400 ∷ drive 250468850 1 0x00000 ∷ drive 250470050 5 0x00220 ∷ drive 250470150 1 0x00202 ∷ drive 250472450 5 0x00620 ∷ drive 250472550 1 0x00000 ∷ drive 250473650 5 0x10722 ∷ drive 250473740 5 0x10522 ∷ strike 250474240 1 8 ∷ drive 500473740 5 0x10400 ∷ drive 500673830 5 0x00000 ∷ drive 500675030 5 0x00220 ∷ drive 500675130 1 0x00202 ∷ drive 500677430 5 0x00620 ∷ drive 500677530 1 0x00000 ∷ drive 500678630 5 0x10722 ∷ drive 500678720 5 0x10522 ∷ drive 500679220 1 0x00200 ∷ drive 500679310 5 0x10000 ∷ drive 500679410 1 0x02a00 ∷ drive 500679910 1 0x06a00 ∷ drive 500679910 5 0x10083 ∷ drive 500679965 5 0x18083 ∷ drive 500680065 1 0x02a00 ∷ drive 500680065 5 0x10000 ∷ drive 500680165 1 0x06a00 ∷ drive 500680165 5 0x00106 ∷ drive 500680255 5 0x08106 ∷ drive 500680355 1 0x02a00 ∷ drive 500680355 5 0x00000 ∷ drive 500680455 1 0x00000 ∷ drive 500681655 5 0x00220 ∷ drive 500681755 1 0x00202 ∷ drive 500684055 5 0x00620 ∷ drive 500684155 1 0x00000 ∷ drive 500685255 5 0x10722 ∷ drive 500685345 5 0x10522 ∷ drive 500685845 1 0x00200 ∷ drive 500685935 5 0x10000 ∷ drive 500686035 1 0x02a00 ∷ drive 500686535 1 0x06a00 ∷ drive 500686535 5 0x10086 ∷ drive 500686590 5 0x18086 ∷ drive 500686690 1 0x02a00 ∷ drive 500686690 5 0x10000 ∷ drive 500686790 1 0x06a00 ∷ drive 500686790 5 0x0000e ∷ drive 500686880 5 0x0800e ∷ drive 500686980 1 0x02a00 ∷ drive 500686980 5 0x00000 ∷ drive 500687080 1 0x00000 ∷ drive 500688380 1 0x00202 ∷ drive 500690880 1 0x00602 ∷ drive 500692180 1 0x01782 ∷ drive 500692370 1 0x01582 ∷ drive 500692870 7 0x00200 ∷ drive 500692970 1 0x01782 ∷ drive 500693160 1 0x03a83 ∷ drive 500693260 7 0x00000 ∷ drive 500693660 1 0x07a83 ∷ drive 500693760 7 0x08000 ∷ drive 500693860 1 0x03a20 ∷ drive 500693960 7 0x00000 ∷ drive 500694060 1 0x07a20 ∷ drive 500694160 7 0x08000 ∷ drive 500694260 1 0x03a01 ∷ drive 500694360 7 0x00000 ∷ drive 500694460 1 0x07a01 ∷ drive 500694560 7 0x08000 ∷ drive 500694660 1 0x03a00 ∷ drive 500694760 7 0x00000 ∷ drive 500694860 1 0x01a02 ∷ drive 500695360 1 0x05a02 ∷ drive 500695460 7 0x08000 ∷ drive 500695560 1 0x01a00 ∷ drive 500695660 7 0x00000 ∷ drive 500695760 1 0x03b00 ∷ drive 500696260 1 0x07b00 ∷ drive 500696360 7 0x08000 ∷ drive 500696460 1 0x03a00 ∷ drive 500696560 7 0x00000 ∷ drive 500696660 1 0x00000 ∷ drive 500697960 7 0x00280 ∷ drive 500700460 7 0x00680 ∷ drive 500701760 7 0x10782 ∷ drive 500701950 7 0x10582 ∷ drive 500702450 1 0x00200 ∷ drive 500702640 7 0x10000 ∷ drive 500702740 1 0x02a00 ∷ drive 500703240 1 0x06a00 ∷ drive 500703340 7 0x00083 ∷ drive 500703530 7 0x08083 ∷ drive 500703630 1 0x02a00 ∷ drive 500703730 7 0x00000 ∷ drive 500703830 1 0x00a00 ∷ drive 500704330 1 0x04a00 ∷ drive 500704430 7 0x00103 ∷ drive 500704585 7 0x08103 ∷ drive 500704685 1 0x00a00 ∷ drive 500704785 7 0x00000 ∷ drive 500704885 1 0x04a00 ∷ drive 500704985 7 0x00100 ∷ drive 500705140 7 0x08100 ∷ drive 500705240 1 0x00a00 ∷ drive 500705340 7 0x00000 ∷ drive 500705440 1 0x04a00 ∷ drive 500705540 7 0x00100 ∷ drive 500705695 7 0x08100 ∷ drive 500705795 1 0x00a00 ∷ drive 500705895 7 0x00000 ∷ drive 500705995 1 0x04a00 ∷ drive 500706095 7 0x00100 ∷ drive 500706250 7 0x08100 ∷ drive 500706350 1 0x00a00 ∷ drive 500706450 7 0x00000 ∷ drive 500706550 1 0x04a00 ∷ drive 500706650 7 0x00112 ∷ drive 500706805 7 0x08112 ∷ drive 500706905 1 0x00a00 ∷ drive 500707005 7 0x00000 ∷ drive 500707105 1 0x04a00 ∷ drive 500707205 7 0x00100 ∷ drive 500707360 7 0x08100 ∷ drive 500707460 1 0x00a00 ∷ drive 500707560 7 0x00000 ∷ drive 500707660 1 0x01200 ∷ drive 500708560 1 0x01270 ∷ drive 500708715 1 0x05270 ∷ drive 500708815 7 0x08000 ∷ drive 500708915 1 0x01300 ∷ drive 500709015 7 0x00000 ∷ drive 500709115 1 0x05300 ∷ drive 500709215 7 0x08000 ∷ drive 500709315 1 0x01306 ∷ drive 500709415 7 0x00000 ∷ drive 500709515 1 0x05306 ∷ drive 500709615 7 0x08000 ∷ drive 500709715 1 0x01300 ∷ drive 500709815 7 0x00000 ∷ drive 500709915 1 0x05300 ∷ drive 500710015 7 0x08000 ∷ drive 500710115 1 0x01300 ∷ drive 500710215 7 0x00000 ∷ drive 500710315 1 0x05300 ∷ drive 500710415 7 0x08000 ∷ drive 500710515 1 0x01300 ∷ drive 500710615 7 0x00000 ∷ drive 500710715 1 0x05300 ∷ drive 500710815 7 0x08000 ∷ drive 500710915 1 0x01300 ∷ drive 500711015 7 0x00000 ∷ drive 500711115 1 0x05300 ∷ drive 500711215 7 0x08000 ∷ drive 500711315 1 0x0130a ∷ drive 500711415 7 0x00000 ∷ drive 500711515 1 0x0530a ∷ drive 500711615 7 0x08000 ∷ drive 500711715 1 0x01300 ∷ drive 500711815 7 0x00000 ∷ drive 500711915 1 0x05300 ∷ drive 500712015 7 0x08000 ∷ drive 500712115 1 0x01300 ∷ drive 500712215 7 0x00000 ∷ drive 500712315 1 0x05300 ∷ drive 500712415 7 0x08000 ∷ drive 500712515 1 0x01300 ∷ drive 500712615 7 0x00000 ∷ drive 500712715 1 0x05300 ∷ drive 500712815 7 0x08000 ∷ drive 500712915 1 0x01300 ∷ drive 500713015 7 0x00000 ∷ drive 500713115 1 0x05300 ∷ drive 500713215 7 0x08000 ∷ drive 500713315 1 0x01229 ∷ drive 500713415 7 0x00000 ∷ drive 500713515 1 0x05229 ∷ drive 500713615 7 0x08000 ∷ drive 500713715 1 0x01300 ∷ drive 500713815 7 0x00000 ∷ drive 500713915 1 0x05300 ∷ drive 500714015 7 0x08000 ∷ drive 500714115 1 0x01300 ∷ drive 500714215 7 0x00000 ∷ drive 500714315 1 0x05300 ∷ drive 500714415 7 0x08000 ∷ drive 500714515 1 0x01300 ∷ drive 500714615 7 0x00000 ∷ drive 500714715 1 0x05300 ∷ drive 500714815 7 0x08000 ∷ drive 500714915 1 0x01300 ∷ drive 500715015 7 0x00000 ∷ drive 500715115 1 0x05300 ∷ drive 500715215 7 0x08000 ∷ drive 500715315 1 0x01300 ∷ drive 500715415 7 0x00000 ∷ drive 500715515 1 0x05300 ∷ drive 500715615 7 0x08000 ∷ drive 500715715 1 0x01200 ∷ drive 500715815 7 0x00000 ∷ drive 500715915 1 0x01b00 ∷ drive 500716415 1 0x05b00 ∷ drive 500716515 7 0x08000 ∷ drive 500716615 1 0x01a00 ∷ drive 500716715 7 0x00000 ∷ drive 500716815 1 0x03b00 ∷ drive 500717315 1 0x07b00 ∷ drive 500717415 7 0x08000 ∷ drive 500717515 1 0x03a00 ∷ drive 500717615 7 0x00000 ∷ drive 500717715 1 0x00000 ∷ []

abbrev resets_with_queues_told_events : List Item
resets_with_queues_told_events = items.Arrive (process 7 1 (Some 6) (Some 1) 1) ∷ items.Arrive (process 5 1 (Some 6) (Some 2) 1) ∷ items.End (process 5 1 (Some 6) (Some 2) 1) (Some 40) ∷ items.Arrive (process 4 1 (Some 6) None 1) ∷ items.End (process 4 1 (Some 6) None 1) (Some 40) ∷ items.Reset 5 ∷ items.Abort 7 1 (Some 6) aborts.Device ∷ items.Arrive (process 7 1 (Some 6) None 1) ∷ items.Arrive (process 7 1 (Some 3) (Some 1) 1) ∷ items.Abort 5 1 (Some 3) aborts.All ∷ items.Abort 5 1 (Some 6) aborts.WholeQueue ∷ items.Ready (process 7 1 (Some 3) (Some 1) 1) ∷ items.End (process 7 1 (Some 3) (Some 1) 1) (Some 2) ∷ items.Arrive (process 7 1 (Some 3) None 1) ∷ items.Ready (process 7 1 (Some 3) None 1) ∷ items.End (process 7 1 (Some 3) None 1) (Some 0) ∷ []

resets_with_queues_told_shown : events_shown resets_with_queues_told (reverse resets_with_queues_told_rows) ≡ resets_with_queues_told_events
unfolding need_of sent_of ones union_below line_of form_out form_in by_change closed_by
resets_with_queues_told_shown = refl

resets_with_queues_told_named : named_history resets_with_queues_told (reverse resets_with_queues_told_rows) ≡ resets_with_queues_told_events
unfolding need_of sent_of ones union_below line_of form_out form_in by_change closed_by
resets_with_queues_told_named = refl

pub resets_with_queues_told_alike : TellsHistory resets_with_queues_told (reverse resets_with_queues_told_rows)
resets_with_queues_told_alike = resets_with_queues_told_shown ∙ sym resets_with_queues_told_named

-- ---- sense_cut_told

abbrev sense_cut_told : ScenarioValue
sense_cut_told = record {
  version = 1;
  hosts = record { dev = 7; latency = 0; most = 1; retries = 0; period = 0; offset = 0; lag = 0; offers = true } ∷ [];
  targets = record { dev = 0; latency = 0; retries = 0; disc = policies.Never; pick = picks.First; seek = 0; period = 0; offset = 0; begins = false } ∷ [];
  units = record { target = 0; unit = 0; blocks = 1; size = 16; depth = 1 } ∷ [];
  fills = [];
  tapes = [];
  loads = [];
  commands = record { host = 7; target = 0; unit = 0; at = 0; tag = tags.Untagged; cdb = (4 ∷ 0 ∷ 0 ∷ 0 ∷ 0 ∷ 0 ∷ []); payload = payloads.Nothing } ∷ [];
  aborts = [];
  resets = record { dev = 7; at = 16745 } ∷ [];
  faults = [];
}

abbrev pub sense_cut_told_rows : List Row
sense_cut_told_rows = drive 1200 7 0x00280 ∷ drive 3600 7 0x00680 ∷ drive 4800 7 0x10781 ∷ drive 4890 7 0x10581 ∷ drive 5290 0 0x00200 ∷ drive 5380 7 0x10000 ∷ drive 5380 0 0x02a00 ∷ drive 5780 0 0x06a00 ∷ drive 5780 7 0x001c0 ∷ drive 5870 7 0x081c0 ∷ drive 5870 0 0x02a00 ∷ drive 5870 7 0x00000 ∷ drive 5870 0 0x00a00 ∷ drive 6270 0 0x04a00 ∷ drive 6270 7 0x00004 ∷ drive 6325 7 0x08004 ∷ drive 6325 0 0x00a00 ∷ drive 6325 7 0x00000 ∷ drive 6325 0 0x04a00 ∷ drive 6325 7 0x00100 ∷ drive 6380 7 0x08100 ∷ drive 6380 0 0x00a00 ∷ drive 6380 7 0x00000 ∷ drive 6380 0 0x04a00 ∷ drive 6380 7 0x00100 ∷ drive 6435 7 0x08100 ∷ drive 6435 0 0x00a00 ∷ drive 6435 7 0x00000 ∷ drive 6435 0 0x04a00 ∷ drive 6435 7 0x00100 ∷ drive 6490 7 0x08100 ∷ drive 6490 0 0x00a00 ∷ drive 6490 7 0x00000 ∷ drive 6490 0 0x04a00 ∷ drive 6490 7 0x00100 ∷ drive 6545 7 0x08100 ∷ drive 6545 0 0x00a00 ∷ drive 6545 7 0x00000 ∷ drive 6545 0 0x04a00 ∷ drive 6545 7 0x00100 ∷ drive 6600 7 0x08100 ∷ drive 6600 0 0x00a00 ∷ drive 6600 7 0x00000 ∷ drive 6600 0 0x01a00 ∷ drive 7400 0 0x01a02 ∷ drive 7455 0 0x05a02 ∷ drive 7455 7 0x08000 ∷ drive 7455 0 0x01a00 ∷ drive 7455 7 0x00000 ∷ drive 7455 0 0x03b00 ∷ drive 7855 0 0x07b00 ∷ drive 7855 7 0x08000 ∷ drive 7855 0 0x03a00 ∷ drive 7855 7 0x00000 ∷ drive 7855 0 0x00000 ∷ drive 9055 7 0x00280 ∷ drive 11455 7 0x00680 ∷ drive 12655 7 0x10781 ∷ drive 12745 7 0x10581 ∷ drive 13145 0 0x00200 ∷ drive 13235 7 0x10000 ∷ drive 13235 0 0x02a00 ∷ drive 13635 0 0x06a00 ∷ drive 13635 7 0x00080 ∷ drive 13725 7 0x08080 ∷ drive 13725 0 0x02a00 ∷ drive 13725 7 0x00000 ∷ drive 13725 0 0x00a00 ∷ drive 14125 0 0x04a00 ∷ drive 14125 7 0x00103 ∷ drive 14180 7 0x08103 ∷ drive 14180 0 0x00a00 ∷ drive 14180 7 0x00000 ∷ drive 14180 0 0x04a00 ∷ drive 14180 7 0x00100 ∷ drive 14235 7 0x08100 ∷ drive 14235 0 0x00a00 ∷ drive 14235 7 0x00000 ∷ drive 14235 0 0x04a00 ∷ drive 14235 7 0x00100 ∷ drive 14290 7 0x08100 ∷ drive 14290 0 0x00a00 ∷ drive 14290 7 0x00000 ∷ drive 14290 0 0x04a00 ∷ drive 14290 7 0x00100 ∷ drive 14345 7 0x08100 ∷ drive 14345 0 0x00a00 ∷ drive 14345 7 0x00000 ∷ drive 14345 0 0x04a00 ∷ drive 14345 7 0x00112 ∷ drive 14400 7 0x08112 ∷ drive 14400 0 0x00a00 ∷ drive 14400 7 0x00000 ∷ drive 14400 0 0x04a00 ∷ drive 14400 7 0x00100 ∷ drive 14455 7 0x08100 ∷ drive 14455 0 0x00a00 ∷ drive 14455 7 0x00000 ∷ drive 14455 0 0x01200 ∷ drive 15255 0 0x01270 ∷ drive 15310 0 0x05270 ∷ drive 15310 7 0x08000 ∷ drive 15310 0 0x01300 ∷ drive 15310 7 0x00000 ∷ drive 15365 0 0x05300 ∷ drive 15365 7 0x08000 ∷ drive 15365 0 0x01305 ∷ drive 15365 7 0x00000 ∷ drive 15420 0 0x05305 ∷ drive 15420 7 0x08000 ∷ drive 15420 0 0x01300 ∷ drive 15420 7 0x00000 ∷ drive 15475 0 0x05300 ∷ drive 15475 7 0x08000 ∷ drive 15475 0 0x01300 ∷ drive 15475 7 0x00000 ∷ drive 15530 0 0x05300 ∷ drive 15530 7 0x08000 ∷ drive 15530 0 0x01300 ∷ drive 15530 7 0x00000 ∷ drive 15585 0 0x05300 ∷ drive 15585 7 0x08000 ∷ drive 15585 0 0x01300 ∷ drive 15585 7 0x00000 ∷ drive 15640 0 0x05300 ∷ drive 15640 7 0x08000 ∷ drive 15640 0 0x0130a ∷ drive 15640 7 0x00000 ∷ drive 15695 0 0x0530a ∷ drive 15695 7 0x08000 ∷ drive 15695 0 0x01300 ∷ drive 15695 7 0x00000 ∷ drive 15750 0 0x05300 ∷ drive 15750 7 0x08000 ∷ drive 15750 0 0x01300 ∷ drive 15750 7 0x00000 ∷ drive 15805 0 0x05300 ∷ drive 15805 7 0x08000 ∷ drive 15805 0 0x01300 ∷ drive 15805 7 0x00000 ∷ drive 15860 0 0x05300 ∷ drive 15860 7 0x08000 ∷ drive 15860 0 0x01300 ∷ drive 15860 7 0x00000 ∷ drive 15915 0 0x05300 ∷ drive 15915 7 0x08000 ∷ drive 15915 0 0x01220 ∷ drive 15915 7 0x00000 ∷ drive 15970 0 0x05220 ∷ drive 15970 7 0x08000 ∷ drive 15970 0 0x01300 ∷ drive 15970 7 0x00000 ∷ drive 16025 0 0x05300 ∷ drive 16025 7 0x08000 ∷ drive 16025 0 0x01300 ∷ drive 16025 7 0x00000 ∷ drive 16080 0 0x05300 ∷ drive 16080 7 0x08000 ∷ drive 16080 0 0x01300 ∷ drive 16080 7 0x00000 ∷ drive 16135 0 0x05300 ∷ drive 16135 7 0x08000 ∷ drive 16135 0 0x01300 ∷ drive 16135 7 0x00000 ∷ drive 16190 0 0x05300 ∷ drive 16190 7 0x08000 ∷ drive 16190 0 0x01300 ∷ drive 16190 7 0x00000 ∷ drive 16245 0 0x05300 ∷ drive 16245 7 0x08000 ∷ drive 16245 0 0x01200 ∷ drive 16245 7 0x00000 ∷ drive 16245 0 0x01b00 ∷ drive 16645 0 0x05b00 ∷ drive 16645 7 0x08000 ∷ drive 16645 0 0x01a00 ∷ drive 16645 7 0x00000 ∷ drive 16645 0 0x03b00 ∷ drive 16745 7 0x20000 ∷ drive 16745 0 0x00000 ∷ drive 41745 7 0x00000 ∷ []

abbrev sense_cut_told_events : List Item
sense_cut_told_events = items.Arrive (process 7 0 (Some 0) None 1) ∷ items.Ready (process 7 0 (Some 0) None 1) ∷ items.End (process 7 0 (Some 0) None 1) (Some 2) ∷ items.Arrive (process 7 0 (Some 0) None 2) ∷ items.Ready (process 7 0 (Some 0) None 2) ∷ items.Reset 7 ∷ []

sense_cut_told_shown : events_shown sense_cut_told (reverse sense_cut_told_rows) ≡ sense_cut_told_events
unfolding need_of sent_of ones union_below line_of form_out form_in by_change closed_by
sense_cut_told_shown = refl

sense_cut_told_named : named_history sense_cut_told (reverse sense_cut_told_rows) ≡ sense_cut_told_events
unfolding need_of sent_of ones union_below line_of form_out form_in by_change closed_by
sense_cut_told_named = refl

pub sense_cut_told_alike : TellsHistory sense_cut_told (reverse sense_cut_told_rows)
sense_cut_told_alike = sense_cut_told_shown ∙ sym sense_cut_told_named

-- ---- struck_command_told

abbrev struck_command_told : ScenarioValue
struck_command_told = record {
  version = 1;
  hosts = record { dev = 5; latency = 23; most = 1; retries = 2; period = 49; offset = 3; lag = 0; offers = true } ∷ record { dev = 6; latency = 61; most = 1; retries = 0; period = 0; offset = 3; lag = 0; offers = true } ∷ record { dev = 2; latency = 71; most = 2; retries = 5; period = 25; offset = 2; lag = 100; offers = true } ∷ record { dev = 0; latency = 24; most = 2; retries = 5; period = 49; offset = 1; lag = 100; offers = true } ∷ [];
  targets = record { dev = 7; latency = 89; retries = 0; disc = policies.Burst 1; pick = picks.First; seek = 0; period = 80; offset = 1; begins = false } ∷ [];
  units = record { target = 7; unit = 2; blocks = 8; size = 16; depth = 2 } ∷ record { target = 7; unit = 4; blocks = 2; size = 16; depth = 4 } ∷ [];
  fills = record { target = 7; unit = 2; lba = 1; bytes = (200 ∷ 177 ∷ 54 ∷ 81 ∷ 158 ∷ 0 ∷ 0 ∷ 179 ∷ 36 ∷ 78 ∷ 216 ∷ 227 ∷ 192 ∷ 49 ∷ 106 ∷ 0 ∷ []) } ∷ record { target = 7; unit = 2; lba = 2; bytes = (40 ∷ 34 ∷ 194 ∷ 65 ∷ 92 ∷ 0 ∷ 181 ∷ 0 ∷ 56 ∷ 77 ∷ 172 ∷ 0 ∷ 224 ∷ 0 ∷ 162 ∷ 220 ∷ []) } ∷ record { target = 7; unit = 2; lba = 5; bytes = (0 ∷ 0 ∷ 238 ∷ 0 ∷ 0 ∷ 208 ∷ 56 ∷ 0 ∷ 173 ∷ 80 ∷ 126 ∷ 134 ∷ 0 ∷ 232 ∷ 0 ∷ 34 ∷ []) } ∷ record { target = 7; unit = 2; lba = 6; bytes = (250 ∷ 0 ∷ 199 ∷ 72 ∷ 195 ∷ 59 ∷ 0 ∷ 0 ∷ 198 ∷ 0 ∷ 68 ∷ 0 ∷ 40 ∷ 251 ∷ 96 ∷ 98 ∷ []) } ∷ record { target = 7; unit = 4; lba = 0; bytes = (0 ∷ 204 ∷ 0 ∷ 0 ∷ 182 ∷ 0 ∷ 0 ∷ 0 ∷ 227 ∷ 144 ∷ 160 ∷ 0 ∷ 0 ∷ 199 ∷ 0 ∷ 0 ∷ []) } ∷ record { target = 7; unit = 4; lba = 1; bytes = (122 ∷ 226 ∷ 0 ∷ 72 ∷ 79 ∷ 204 ∷ 0 ∷ 136 ∷ 105 ∷ 0 ∷ 0 ∷ 62 ∷ 108 ∷ 133 ∷ 175 ∷ 0 ∷ []) } ∷ [];
  tapes = [];
  loads = [];
  commands = record { host = 6; target = 7; unit = 4; at = 60471; tag = tags.Untagged; cdb = (17 ∷ 0 ∷ 0 ∷ 0 ∷ 0 ∷ 0 ∷ []); payload = payloads.Nothing } ∷ record { host = 2; target = 7; unit = 2; at = 80321; tag = tags.Head 1; cdb = (10 ∷ 0 ∷ 0 ∷ 2 ∷ 2 ∷ 0 ∷ []); payload = payloads.From 27 } ∷ [];
  aborts = [];
  resets = record { dev = 5; at = 111836 } ∷ [];
  faults = record { at = 68609; bit = 2 } ∷ record { at = 143587; bit = 1 } ∷ [];
}

abbrev pub struck_command_told_rows : List Row
struck_command_told_rows = drive 60532 6 0x00240 ∷ drive 62993 6 0x00640 ∷ drive 64254 6 0x107c0 ∷ drive 64405 6 0x105c0 ∷ drive 64894 7 0x00200 ∷ drive 65045 6 0x10000 ∷ drive 65134 7 0x02a00 ∷ drive 65623 7 0x06a00 ∷ drive 65684 6 0x000c4 ∷ drive 65835 6 0x080c4 ∷ drive 65924 7 0x02a00 ∷ drive 65985 6 0x00000 ∷ drive 66074 7 0x00a00 ∷ drive 66563 7 0x04a00 ∷ drive 66624 6 0x00111 ∷ drive 66740 6 0x08111 ∷ drive 66829 7 0x00a00 ∷ drive 66890 6 0x00000 ∷ drive 66979 7 0x04a00 ∷ drive 67040 6 0x00100 ∷ drive 67156 6 0x08100 ∷ drive 67245 7 0x00a00 ∷ drive 67306 6 0x00000 ∷ drive 67395 7 0x04a00 ∷ drive 67456 6 0x00100 ∷ drive 67572 6 0x08100 ∷ drive 67661 7 0x00a00 ∷ drive 67722 6 0x00000 ∷ drive 67811 7 0x04a00 ∷ drive 67872 6 0x00100 ∷ drive 67988 6 0x08100 ∷ drive 68077 7 0x00a00 ∷ drive 68138 6 0x00000 ∷ drive 68227 7 0x04a00 ∷ drive 68288 6 0x00100 ∷ drive 68404 6 0x08100 ∷ drive 68493 7 0x00a00 ∷ drive 68554 6 0x00000 ∷ drive 68643 7 0x04a00 ∷ drive 68704 6 0x00100 ∷ drive 68820 6 0x08100 ∷ strike 68820 7 2 ∷ drive 68909 7 0x00a00 ∷ drive 68970 6 0x00000 ∷ drive 69059 7 0x01a00 ∷ drive 69948 7 0x01a02 ∷ drive 70092 7 0x05a02 ∷ drive 70153 6 0x08000 ∷ drive 70242 7 0x01a00 ∷ drive 70303 6 0x00000 ∷ drive 70392 7 0x03b00 ∷ drive 70881 7 0x07b00 ∷ drive 70942 6 0x08000 ∷ drive 71031 7 0x03a00 ∷ drive 71092 6 0x00000 ∷ drive 71181 7 0x00000 ∷ drive 72442 6 0x00240 ∷ drive 74903 6 0x00640 ∷ drive 76164 6 0x107c0 ∷ drive 76315 6 0x105c0 ∷ drive 76804 7 0x00200 ∷ drive 76955 6 0x10000 ∷ drive 77044 7 0x02a00 ∷ drive 77533 7 0x06a00 ∷ drive 77594 6 0x00184 ∷ drive 77745 6 0x08184 ∷ drive 77834 7 0x02a00 ∷ drive 77895 6 0x00000 ∷ drive 77984 7 0x00a00 ∷ drive 78473 7 0x04a00 ∷ drive 78534 6 0x00103 ∷ drive 78650 6 0x08103 ∷ drive 78739 7 0x00a00 ∷ drive 78800 6 0x00000 ∷ drive 78889 7 0x04a00 ∷ drive 78950 6 0x00100 ∷ drive 79066 6 0x08100 ∷ drive 79155 7 0x00a00 ∷ drive 79216 6 0x00000 ∷ drive 79305 7 0x04a00 ∷ drive 79366 6 0x00100 ∷ drive 79482 6 0x08100 ∷ drive 79571 7 0x00a00 ∷ drive 79632 6 0x00000 ∷ drive 79721 7 0x04a00 ∷ drive 79782 6 0x00100 ∷ drive 79898 6 0x08100 ∷ drive 79987 7 0x00a00 ∷ drive 80048 6 0x00000 ∷ drive 80137 7 0x04a00 ∷ drive 80198 6 0x00112 ∷ drive 80314 6 0x08112 ∷ drive 80403 7 0x00a00 ∷ drive 80464 6 0x00000 ∷ drive 80553 7 0x04a00 ∷ drive 80614 6 0x00100 ∷ drive 80730 6 0x08100 ∷ drive 80819 7 0x00a00 ∷ drive 80880 6 0x00000 ∷ drive 80969 7 0x01200 ∷ drive 81858 7 0x01270 ∷ drive 82002 7 0x05270 ∷ drive 82063 6 0x08000 ∷ drive 82152 7 0x01300 ∷ drive 82213 6 0x00000 ∷ drive 82302 7 0x05300 ∷ drive 82363 6 0x08000 ∷ drive 82452 7 0x0120b ∷ drive 82513 6 0x00000 ∷ drive 82602 7 0x0520b ∷ drive 82663 6 0x08000 ∷ drive 82752 7 0x01300 ∷ drive 82813 6 0x00000 ∷ drive 82902 7 0x05300 ∷ drive 82963 6 0x08000 ∷ drive 83052 7 0x01300 ∷ drive 83113 6 0x00000 ∷ drive 83202 7 0x05300 ∷ drive 83263 6 0x08000 ∷ drive 83352 7 0x01300 ∷ drive 83413 6 0x00000 ∷ drive 83502 7 0x05300 ∷ drive 83563 6 0x08000 ∷ drive 83652 7 0x01300 ∷ drive 83713 6 0x00000 ∷ drive 83802 7 0x05300 ∷ drive 83863 6 0x08000 ∷ drive 83952 7 0x0130a ∷ drive 84013 6 0x00000 ∷ drive 84102 7 0x0530a ∷ drive 84163 6 0x08000 ∷ drive 84252 7 0x01300 ∷ drive 84313 6 0x00000 ∷ drive 84402 7 0x05300 ∷ drive 84463 6 0x08000 ∷ drive 84552 7 0x01300 ∷ drive 84613 6 0x00000 ∷ drive 84702 7 0x05300 ∷ drive 84763 6 0x08000 ∷ drive 84852 7 0x01300 ∷ drive 84913 6 0x00000 ∷ drive 85002 7 0x05300 ∷ drive 85063 6 0x08000 ∷ drive 85152 7 0x01300 ∷ drive 85213 6 0x00000 ∷ drive 85302 7 0x05300 ∷ drive 85363 6 0x08000 ∷ drive 85452 7 0x01347 ∷ drive 85513 6 0x00000 ∷ drive 85602 7 0x05347 ∷ drive 85663 6 0x08000 ∷ drive 85752 7 0x01300 ∷ drive 85813 6 0x00000 ∷ drive 85902 7 0x05300 ∷ drive 85963 6 0x08000 ∷ drive 86052 7 0x01300 ∷ drive 86113 6 0x00000 ∷ drive 86202 7 0x05300 ∷ drive 86263 6 0x08000 ∷ drive 86352 7 0x01300 ∷ drive 86413 6 0x00000 ∷ drive 86502 7 0x05300 ∷ drive 86563 6 0x08000 ∷ drive 86652 7 0x01300 ∷ drive 86713 6 0x00000 ∷ drive 86802 7 0x05300 ∷ drive 86863 6 0x08000 ∷ drive 86952 7 0x01300 ∷ drive 87013 6 0x00000 ∷ drive 87102 7 0x05300 ∷ drive 87163 6 0x08000 ∷ drive 87252 7 0x01200 ∷ drive 87313 6 0x00000 ∷ drive 87402 7 0x01b00 ∷ drive 87891 7 0x05b00 ∷ drive 87952 6 0x08000 ∷ drive 88041 7 0x01a00 ∷ drive 88102 6 0x00000 ∷ drive 88191 7 0x03b00 ∷ drive 88680 7 0x07b00 ∷ drive 88741 6 0x08000 ∷ drive 88830 7 0x03a00 ∷ drive 88891 6 0x00000 ∷ drive 88980 7 0x00000 ∷ drive 90251 2 0x00204 ∷ drive 92722 2 0x00604 ∷ drive 93993 2 0x10784 ∷ drive 94154 2 0x10584 ∷ drive 94643 7 0x00200 ∷ drive 94804 2 0x10000 ∷ drive 94893 7 0x02a00 ∷ drive 95382 7 0x06a00 ∷ drive 95453 2 0x100c2 ∷ drive 95579 2 0x180c2 ∷ drive 95668 7 0x02a00 ∷ drive 95739 2 0x10000 ∷ drive 95828 7 0x06a00 ∷ drive 95899 2 0x10121 ∷ drive 96025 2 0x18121 ∷ drive 96114 7 0x02a00 ∷ drive 96185 2 0x10000 ∷ drive 96274 7 0x06a00 ∷ drive 96345 2 0x10001 ∷ drive 96471 2 0x18001 ∷ drive 96560 7 0x02a00 ∷ drive 96631 2 0x10000 ∷ drive 96720 7 0x06a00 ∷ drive 96791 2 0x10001 ∷ drive 96917 2 0x18001 ∷ drive 97006 7 0x02a00 ∷ drive 97077 2 0x10000 ∷ drive 97166 7 0x06a00 ∷ drive 97237 2 0x10103 ∷ drive 97363 2 0x18103 ∷ drive 97452 7 0x02a00 ∷ drive 97523 2 0x10000 ∷ drive 97612 7 0x06a00 ∷ drive 97683 2 0x10001 ∷ drive 97809 2 0x18001 ∷ drive 97898 7 0x02a00 ∷ drive 97969 2 0x10000 ∷ drive 98058 7 0x06a00 ∷ drive 98129 2 0x10019 ∷ drive 98255 2 0x18019 ∷ drive 98344 7 0x02a00 ∷ drive 98415 2 0x10000 ∷ drive 98504 7 0x06a00 ∷ drive 98575 2 0x00002 ∷ drive 98736 2 0x08002 ∷ drive 98825 7 0x02a00 ∷ drive 98896 2 0x00000 ∷ drive 98985 7 0x03a00 ∷ drive 99874 7 0x03a01 ∷ drive 100018 7 0x07a01 ∷ drive 100089 2 0x08000 ∷ drive 100178 7 0x03b03 ∷ drive 100249 2 0x00000 ∷ drive 100338 7 0x07b03 ∷ drive 100409 2 0x08000 ∷ drive 100498 7 0x03a01 ∷ drive 100569 2 0x00000 ∷ drive 100658 7 0x07a01 ∷ drive 100729 2 0x08000 ∷ drive 100818 7 0x03b50 ∷ drive 100889 2 0x00000 ∷ drive 100978 7 0x07b50 ∷ drive 101049 2 0x08000 ∷ drive 101138 7 0x03a01 ∷ drive 101209 2 0x00000 ∷ drive 101298 7 0x07a01 ∷ drive 101369 2 0x08000 ∷ drive 101458 7 0x03a00 ∷ drive 101529 2 0x00000 ∷ drive 101618 7 0x00a00 ∷ drive 102107 7 0x04a00 ∷ drive 102178 2 0x0010a ∷ drive 102304 2 0x0810a ∷ drive 102393 7 0x00a00 ∷ drive 102464 2 0x00000 ∷ drive 102553 7 0x04a00 ∷ drive 102624 2 0x00100 ∷ drive 102750 2 0x08100 ∷ drive 102839 7 0x00a00 ∷ drive 102910 2 0x00000 ∷ drive 102999 7 0x04a00 ∷ drive 103070 2 0x00100 ∷ drive 103196 2 0x08100 ∷ drive 103285 7 0x00a00 ∷ drive 103356 2 0x00000 ∷ drive 103445 7 0x04a00 ∷ drive 103516 2 0x00002 ∷ drive 103642 2 0x08002 ∷ drive 103731 7 0x00a00 ∷ drive 103802 2 0x00000 ∷ drive 103891 7 0x04a00 ∷ drive 103962 2 0x00002 ∷ drive 104088 2 0x08002 ∷ drive 104177 7 0x00a00 ∷ drive 104248 2 0x00000 ∷ drive 104337 7 0x04a00 ∷ drive 104408 2 0x00100 ∷ drive 104534 2 0x08100 ∷ drive 104623 7 0x00a00 ∷ drive 104694 2 0x00000 ∷ drive 104783 7 0x03a00 ∷ drive 105672 7 0x03a04 ∷ drive 105816 7 0x07a04 ∷ drive 105887 2 0x08000 ∷ drive 105976 7 0x03a00 ∷ drive 106047 2 0x00000 ∷ drive 106136 7 0x00000 ∷ drive 107425 7 0x00280 ∷ drive 109914 7 0x00680 ∷ drive 111203 7 0x01784 ∷ drive 111382 7 0x01584 ∷ drive 111836 5 0x20000 ∷ drive 111925 7 0x00000 ∷ drive 136859 5 0x00000 ∷ []

abbrev struck_command_told_events : List Item
struck_command_told_events = items.Ready (process 6 7 (Some 4) None 1) ∷ items.End (process 6 7 (Some 4) None 1) (Some 2) ∷ items.Arrive (process 6 7 (Some 4) None 2) ∷ items.Ready (process 6 7 (Some 4) None 2) ∷ items.End (process 6 7 (Some 4) None 2) (Some 0) ∷ items.Arrive (process 2 7 (Some 2) (Some 1) 1) ∷ items.Reset 5 ∷ []

struck_command_told_shown : events_shown struck_command_told (reverse struck_command_told_rows) ≡ struck_command_told_events
unfolding need_of sent_of ones union_below line_of form_out form_in by_change closed_by
struck_command_told_shown = refl

struck_command_told_named : named_history struck_command_told (reverse struck_command_told_rows) ≡ struck_command_told_events
unfolding need_of sent_of ones union_below line_of form_out form_in by_change closed_by
struck_command_told_named = refl

pub struck_command_told_alike : TellsHistory struck_command_told (reverse struck_command_told_rows)
struck_command_told_alike = struck_command_told_shown ∙ sym struck_command_told_named

-- ---- struck_disconnect_told

abbrev struck_disconnect_told : ScenarioValue
struck_disconnect_told = record {
  version = 1;
  hosts = record { dev = 7; latency = 0; most = 1; retries = 0; period = 0; offset = 0; lag = 0; offers = true } ∷ [];
  targets = record { dev = 0; latency = 0; retries = 0; disc = policies.Command; pick = picks.First; seek = 0; period = 0; offset = 0; begins = false } ∷ [];
  units = record { target = 0; unit = 0; blocks = 1; size = 16; depth = 1 } ∷ [];
  fills = record { target = 0; unit = 0; lba = 0; bytes = (0 ∷ 1 ∷ 2 ∷ 3 ∷ 4 ∷ 5 ∷ 6 ∷ 7 ∷ 8 ∷ 9 ∷ 10 ∷ 11 ∷ 12 ∷ 13 ∷ 14 ∷ 15 ∷ []) } ∷ [];
  tapes = [];
  loads = [];
  commands = record { host = 7; target = 0; unit = 0; at = 0; tag = tags.Simple 1; cdb = (8 ∷ 0 ∷ 0 ∷ 0 ∷ 1 ∷ 0 ∷ []); payload = payloads.Nothing } ∷ [];
  aborts = [];
  resets = [];
  faults = record { at = 7565; bit = 0 } ∷ [];
}

abbrev pub struck_disconnect_told_rows : List Row
struck_disconnect_told_rows = drive 1200 7 0x00280 ∷ drive 3600 7 0x00680 ∷ drive 4800 7 0x10781 ∷ drive 4890 7 0x10581 ∷ drive 5290 0 0x00200 ∷ drive 5380 7 0x10000 ∷ drive 5380 0 0x02a00 ∷ drive 5780 0 0x06a00 ∷ drive 5780 7 0x101c0 ∷ drive 5835 7 0x181c0 ∷ drive 5835 0 0x02a00 ∷ drive 5835 7 0x10000 ∷ drive 5835 0 0x06a00 ∷ drive 5835 7 0x10020 ∷ drive 5890 7 0x18020 ∷ drive 5890 0 0x02a00 ∷ drive 5890 7 0x10000 ∷ drive 5890 0 0x06a00 ∷ drive 5890 7 0x00001 ∷ drive 5980 7 0x08001 ∷ drive 5980 0 0x02a00 ∷ drive 5980 7 0x00000 ∷ drive 5980 0 0x00a00 ∷ drive 6380 0 0x04a00 ∷ drive 6380 7 0x00008 ∷ drive 6435 7 0x08008 ∷ drive 6435 0 0x00a00 ∷ drive 6435 7 0x00000 ∷ drive 6435 0 0x04a00 ∷ drive 6435 7 0x00100 ∷ drive 6490 7 0x08100 ∷ drive 6490 0 0x00a00 ∷ drive 6490 7 0x00000 ∷ drive 6490 0 0x04a00 ∷ drive 6490 7 0x00100 ∷ drive 6545 7 0x08100 ∷ drive 6545 0 0x00a00 ∷ drive 6545 7 0x00000 ∷ drive 6545 0 0x04a00 ∷ drive 6545 7 0x00100 ∷ drive 6600 7 0x08100 ∷ drive 6600 0 0x00a00 ∷ drive 6600 7 0x00000 ∷ drive 6600 0 0x04a00 ∷ drive 6600 7 0x00001 ∷ drive 6655 7 0x08001 ∷ drive 6655 0 0x00a00 ∷ drive 6655 7 0x00000 ∷ drive 6655 0 0x04a00 ∷ drive 6655 7 0x00100 ∷ drive 6710 7 0x08100 ∷ drive 6710 0 0x00a00 ∷ drive 6710 7 0x00000 ∷ drive 6710 0 0x03a00 ∷ drive 7510 0 0x03a04 ∷ drive 7565 0 0x07a04 ∷ strike 7565 7 0 ∷ drive 7565 7 0x18000 ∷ drive 7565 0 0x03a00 ∷ drive 7655 7 0x10000 ∷ drive 7655 0 0x02a00 ∷ drive 8055 0 0x06a00 ∷ drive 8055 7 0x00109 ∷ drive 8145 7 0x08109 ∷ drive 8145 0 0x02a00 ∷ drive 8145 7 0x00000 ∷ drive 8145 0 0x00000 ∷ []

abbrev struck_disconnect_told_events : List Item
struck_disconnect_told_events = items.Arrive (process 7 0 (Some 0) (Some 1) 1) ∷ items.Lost (process 7 0 (Some 0) (Some 1) 1) ∷ []

struck_disconnect_told_shown : events_shown struck_disconnect_told (reverse struck_disconnect_told_rows) ≡ struck_disconnect_told_events
unfolding need_of sent_of ones union_below line_of form_out form_in by_change closed_by
struck_disconnect_told_shown = refl

struck_disconnect_told_named : named_history struck_disconnect_told (reverse struck_disconnect_told_rows) ≡ struck_disconnect_told_events
unfolding need_of sent_of ones union_below line_of form_out form_in by_change closed_by
struck_disconnect_told_named = refl

pub struck_disconnect_told_alike : TellsHistory struck_disconnect_told (reverse struck_disconnect_told_rows)
struck_disconnect_told_alike = struck_disconnect_told_shown ∙ sym struck_disconnect_told_named

-- ---- two_aborts_told

abbrev two_aborts_told : ScenarioValue
two_aborts_told = record {
  version = 1;
  hosts = record { dev = 3; latency = 0; most = 1; retries = 5; period = 50; offset = 254; lag = 0; offers = true } ∷ [];
  targets = record { dev = 1; latency = 20; retries = 5; disc = policies.NoSave 2; pick = picks.First; seek = 100000; period = 25; offset = 16; begins = false } ∷ record { dev = 7; latency = 0; retries = 5; disc = policies.NoSave 2; pick = picks.First; seek = 0; period = 50; offset = 16; begins = false } ∷ record { dev = 5; latency = 10; retries = 2; disc = policies.Command; pick = picks.First; seek = 100000; period = 50; offset = 254; begins = false } ∷ record { dev = 4; latency = 0; retries = 1; disc = policies.Never; pick = picks.First; seek = 0; period = 25; offset = 16; begins = false } ∷ [];
  units = record { target = 1; unit = 5; blocks = 4; size = 32; depth = 2 } ∷ record { target = 7; unit = 0; blocks = 8; size = 32; depth = 4 } ∷ record { target = 7; unit = 1; blocks = 1; size = 32; depth = 2 } ∷ record { target = 5; unit = 1; blocks = 4; size = 32; depth = 4 } ∷ record { target = 4; unit = 7; blocks = 8; size = 32; depth = 4 } ∷ [];
  fills = record { target = 1; unit = 5; lba = 0; bytes = (0 ∷ 135 ∷ 0 ∷ 0 ∷ 168 ∷ 140 ∷ 105 ∷ 253 ∷ 144 ∷ 0 ∷ 0 ∷ 91 ∷ 50 ∷ 16 ∷ 0 ∷ 0 ∷ 0 ∷ 24 ∷ 99 ∷ 0 ∷ 151 ∷ 242 ∷ 176 ∷ 89 ∷ 0 ∷ 51 ∷ 0 ∷ 0 ∷ 1 ∷ 203 ∷ 52 ∷ 60 ∷ []) } ∷ record { target = 1; unit = 5; lba = 1; bytes = (255 ∷ 0 ∷ 0 ∷ 16 ∷ 0 ∷ 198 ∷ 167 ∷ 0 ∷ 142 ∷ 163 ∷ 73 ∷ 154 ∷ 164 ∷ 32 ∷ 0 ∷ 0 ∷ 0 ∷ 0 ∷ 245 ∷ 0 ∷ 203 ∷ 216 ∷ 0 ∷ 197 ∷ 0 ∷ 77 ∷ 0 ∷ 0 ∷ 8 ∷ 215 ∷ 0 ∷ 91 ∷ []) } ∷ record { target = 1; unit = 5; lba = 2; bytes = (0 ∷ 0 ∷ 147 ∷ 233 ∷ 154 ∷ 0 ∷ 0 ∷ 175 ∷ 0 ∷ 0 ∷ 89 ∷ 24 ∷ 86 ∷ 249 ∷ 0 ∷ 0 ∷ 141 ∷ 0 ∷ 8 ∷ 244 ∷ 0 ∷ 78 ∷ 185 ∷ 0 ∷ 0 ∷ 0 ∷ 19 ∷ 141 ∷ 170 ∷ 148 ∷ 213 ∷ 162 ∷ []) } ∷ record { target = 1; unit = 5; lba = 3; bytes = (167 ∷ 0 ∷ 34 ∷ 188 ∷ 0 ∷ 48 ∷ 85 ∷ 236 ∷ 204 ∷ 105 ∷ 0 ∷ 247 ∷ 128 ∷ 205 ∷ 110 ∷ 0 ∷ 196 ∷ 0 ∷ 78 ∷ 222 ∷ 0 ∷ 0 ∷ 0 ∷ 36 ∷ 119 ∷ 0 ∷ 0 ∷ 41 ∷ 0 ∷ 0 ∷ 0 ∷ 190 ∷ []) } ∷ record { target = 7; unit = 0; lba = 0; bytes = (92 ∷ 12 ∷ 249 ∷ 53 ∷ 0 ∷ 235 ∷ 0 ∷ 223 ∷ 114 ∷ 0 ∷ 0 ∷ 3 ∷ 117 ∷ 223 ∷ 48 ∷ 0 ∷ 32 ∷ 24 ∷ 200 ∷ 176 ∷ 0 ∷ 0 ∷ 244 ∷ 0 ∷ 61 ∷ 81 ∷ 0 ∷ 62 ∷ 0 ∷ 0 ∷ 0 ∷ 230 ∷ []) } ∷ record { target = 7; unit = 0; lba = 3; bytes = (135 ∷ 94 ∷ 0 ∷ 0 ∷ 0 ∷ 0 ∷ 143 ∷ 242 ∷ 106 ∷ 43 ∷ 194 ∷ 220 ∷ 0 ∷ 0 ∷ 0 ∷ 0 ∷ 102 ∷ 0 ∷ 97 ∷ 58 ∷ 121 ∷ 0 ∷ 0 ∷ 238 ∷ 0 ∷ 116 ∷ 51 ∷ 59 ∷ 44 ∷ 217 ∷ 160 ∷ 28 ∷ []) } ∷ record { target = 7; unit = 0; lba = 4; bytes = (113 ∷ 72 ∷ 21 ∷ 34 ∷ 0 ∷ 44 ∷ 154 ∷ 137 ∷ 246 ∷ 244 ∷ 0 ∷ 155 ∷ 132 ∷ 0 ∷ 200 ∷ 134 ∷ 82 ∷ 165 ∷ 0 ∷ 0 ∷ 196 ∷ 24 ∷ 0 ∷ 192 ∷ 159 ∷ 0 ∷ 0 ∷ 36 ∷ 184 ∷ 234 ∷ 55 ∷ 0 ∷ []) } ∷ record { target = 7; unit = 0; lba = 5; bytes = (0 ∷ 0 ∷ 98 ∷ 0 ∷ 174 ∷ 188 ∷ 0 ∷ 243 ∷ 0 ∷ 0 ∷ 0 ∷ 0 ∷ 107 ∷ 33 ∷ 0 ∷ 12 ∷ 236 ∷ 0 ∷ 6 ∷ 93 ∷ 195 ∷ 70 ∷ 112 ∷ 73 ∷ 242 ∷ 2 ∷ 51 ∷ 229 ∷ 160 ∷ 0 ∷ 33 ∷ 68 ∷ []) } ∷ record { target = 7; unit = 0; lba = 6; bytes = (91 ∷ 0 ∷ 145 ∷ 0 ∷ 0 ∷ 0 ∷ 56 ∷ 0 ∷ 0 ∷ 136 ∷ 113 ∷ 22 ∷ 0 ∷ 69 ∷ 0 ∷ 0 ∷ 0 ∷ 32 ∷ 167 ∷ 0 ∷ 34 ∷ 0 ∷ 132 ∷ 16 ∷ 0 ∷ 45 ∷ 0 ∷ 123 ∷ 0 ∷ 22 ∷ 0 ∷ 45 ∷ []) } ∷ record { target = 5; unit = 1; lba = 3; bytes = (0 ∷ 83 ∷ 0 ∷ 0 ∷ 0 ∷ 114 ∷ 226 ∷ 40 ∷ 0 ∷ 48 ∷ 111 ∷ 0 ∷ 233 ∷ 91 ∷ 35 ∷ 53 ∷ 239 ∷ 0 ∷ 0 ∷ 0 ∷ 0 ∷ 189 ∷ 0 ∷ 105 ∷ 191 ∷ 194 ∷ 0 ∷ 0 ∷ 146 ∷ 68 ∷ 112 ∷ 0 ∷ []) } ∷ record { target = 4; unit = 7; lba = 0; bytes = (0 ∷ 0 ∷ 0 ∷ 0 ∷ 85 ∷ 136 ∷ 163 ∷ 96 ∷ 0 ∷ 249 ∷ 249 ∷ 52 ∷ 86 ∷ 0 ∷ 179 ∷ 214 ∷ 201 ∷ 0 ∷ 0 ∷ 0 ∷ 240 ∷ 36 ∷ 61 ∷ 0 ∷ 0 ∷ 230 ∷ 0 ∷ 187 ∷ 86 ∷ 0 ∷ 204 ∷ 7 ∷ []) } ∷ record { target = 4; unit = 7; lba = 1; bytes = (0 ∷ 63 ∷ 91 ∷ 16 ∷ 241 ∷ 0 ∷ 140 ∷ 132 ∷ 76 ∷ 0 ∷ 0 ∷ 8 ∷ 0 ∷ 222 ∷ 0 ∷ 0 ∷ 125 ∷ 0 ∷ 252 ∷ 228 ∷ 0 ∷ 0 ∷ 248 ∷ 50 ∷ 0 ∷ 0 ∷ 140 ∷ 114 ∷ 42 ∷ 0 ∷ 218 ∷ 30 ∷ []) } ∷ record { target = 4; unit = 7; lba = 2; bytes = (155 ∷ 91 ∷ 0 ∷ 0 ∷ 229 ∷ 241 ∷ 170 ∷ 7 ∷ 142 ∷ 0 ∷ 177 ∷ 0 ∷ 0 ∷ 134 ∷ 226 ∷ 60 ∷ 0 ∷ 17 ∷ 0 ∷ 54 ∷ 0 ∷ 35 ∷ 75 ∷ 69 ∷ 0 ∷ 0 ∷ 62 ∷ 46 ∷ 114 ∷ 0 ∷ 0 ∷ 0 ∷ []) } ∷ record { target = 4; unit = 7; lba = 3; bytes = (60 ∷ 196 ∷ 109 ∷ 40 ∷ 0 ∷ 122 ∷ 68 ∷ 0 ∷ 29 ∷ 178 ∷ 0 ∷ 0 ∷ 0 ∷ 44 ∷ 0 ∷ 0 ∷ 244 ∷ 155 ∷ 167 ∷ 6 ∷ 200 ∷ 88 ∷ 0 ∷ 118 ∷ 0 ∷ 230 ∷ 215 ∷ 65 ∷ 0 ∷ 0 ∷ 231 ∷ 117 ∷ []) } ∷ record { target = 4; unit = 7; lba = 5; bytes = (154 ∷ 58 ∷ 0 ∷ 117 ∷ 0 ∷ 0 ∷ 139 ∷ 205 ∷ 0 ∷ 0 ∷ 0 ∷ 163 ∷ 180 ∷ 67 ∷ 41 ∷ 0 ∷ 0 ∷ 30 ∷ 45 ∷ 69 ∷ 158 ∷ 232 ∷ 0 ∷ 150 ∷ 251 ∷ 184 ∷ 0 ∷ 23 ∷ 202 ∷ 135 ∷ 42 ∷ 19 ∷ []) } ∷ record { target = 4; unit = 7; lba = 6; bytes = (170 ∷ 0 ∷ 0 ∷ 20 ∷ 90 ∷ 177 ∷ 94 ∷ 139 ∷ 92 ∷ 223 ∷ 0 ∷ 0 ∷ 0 ∷ 144 ∷ 37 ∷ 92 ∷ 74 ∷ 0 ∷ 166 ∷ 0 ∷ 137 ∷ 103 ∷ 0 ∷ 66 ∷ 215 ∷ 249 ∷ 216 ∷ 0 ∷ 0 ∷ 0 ∷ 0 ∷ 124 ∷ []) } ∷ [];
  tapes = [];
  loads = [];
  commands = record { host = 3; target = 7; unit = 0; at = 89108; tag = tags.Simple 255; cdb = (8 ∷ 2 ∷ 0 ∷ 0 ∷ 1 ∷ 0 ∷ []); payload = payloads.Nothing } ∷ [];
  aborts = record { host = 3; target = 1; unit = 2; at = 103123; what = (aborts.Tag 2) } ∷ record { host = 3; target = 4; unit = 7; at = 111568; what = aborts.Device } ∷ [];
  resets = [];
  faults = record { at = 112768; bit = 5 } ∷ record { at = 113368; bit = 7 } ∷ record { at = 93698; bit = 5 } ∷ [];
}

abbrev pub two_aborts_told_rows : List Row
two_aborts_told_rows = drive 89108 3 0x00208 ∷ drive 91508 3 0x00608 ∷ drive 92708 3 0x10788 ∷ drive 92798 3 0x10588 ∷ drive 93198 7 0x00200 ∷ drive 93288 3 0x10000 ∷ drive 93288 7 0x02a00 ∷ drive 93688 7 0x06a00 ∷ drive 93688 3 0x101c0 ∷ drive 93743 3 0x181c0 ∷ strike 93743 7 5 ∷ drive 93743 7 0x02a00 ∷ drive 93743 3 0x10000 ∷ drive 93743 7 0x06a00 ∷ drive 93743 3 0x10020 ∷ drive 93798 3 0x18020 ∷ drive 93798 7 0x02a00 ∷ drive 93798 3 0x10000 ∷ drive 93798 7 0x06a00 ∷ drive 93798 3 0x101ff ∷ drive 93853 3 0x181ff ∷ drive 93853 7 0x02a00 ∷ drive 93853 3 0x10000 ∷ drive 93853 7 0x06a00 ∷ drive 93853 3 0x10001 ∷ drive 93908 3 0x18001 ∷ drive 93908 7 0x02a00 ∷ drive 93908 3 0x10000 ∷ drive 93908 7 0x06a00 ∷ drive 93908 3 0x10103 ∷ drive 93963 3 0x18103 ∷ drive 93963 7 0x02a00 ∷ drive 93963 3 0x10000 ∷ drive 93963 7 0x06a00 ∷ drive 93963 3 0x10001 ∷ drive 94018 3 0x18001 ∷ drive 94018 7 0x02a00 ∷ drive 94018 3 0x10000 ∷ drive 94018 7 0x06a00 ∷ drive 94018 3 0x10032 ∷ drive 94073 3 0x18032 ∷ drive 94073 7 0x02a00 ∷ drive 94073 3 0x10000 ∷ drive 94073 7 0x06a00 ∷ drive 94073 3 0x000fe ∷ drive 94163 3 0x080fe ∷ drive 94163 7 0x02a00 ∷ drive 94163 3 0x00000 ∷ drive 94163 7 0x06a00 ∷ drive 94163 3 0x101c0 ∷ drive 94253 3 0x181c0 ∷ drive 94253 7 0x02a00 ∷ drive 94253 3 0x10000 ∷ drive 94253 7 0x06a00 ∷ drive 94253 3 0x10020 ∷ drive 94308 3 0x18020 ∷ drive 94308 7 0x02a00 ∷ drive 94308 3 0x10000 ∷ drive 94308 7 0x06a00 ∷ drive 94308 3 0x101ff ∷ drive 94363 3 0x181ff ∷ drive 94363 7 0x02a00 ∷ drive 94363 3 0x10000 ∷ drive 94363 7 0x06a00 ∷ drive 94363 3 0x10001 ∷ drive 94418 3 0x18001 ∷ drive 94418 7 0x02a00 ∷ drive 94418 3 0x10000 ∷ drive 94418 7 0x06a00 ∷ drive 94418 3 0x10103 ∷ drive 94473 3 0x18103 ∷ drive 94473 7 0x02a00 ∷ drive 94473 3 0x10000 ∷ drive 94473 7 0x06a00 ∷ drive 94473 3 0x10001 ∷ drive 94528 3 0x18001 ∷ drive 94528 7 0x02a00 ∷ drive 94528 3 0x10000 ∷ drive 94528 7 0x06a00 ∷ drive 94528 3 0x10032 ∷ drive 94583 3 0x18032 ∷ drive 94583 7 0x02a00 ∷ drive 94583 3 0x10000 ∷ drive 94583 7 0x06a00 ∷ drive 94583 3 0x000fe ∷ drive 94673 3 0x080fe ∷ drive 94673 7 0x02a00 ∷ drive 94673 3 0x00000 ∷ drive 94673 7 0x03a00 ∷ drive 95473 7 0x03a01 ∷ drive 95528 7 0x07a01 ∷ drive 95528 3 0x08000 ∷ drive 95528 7 0x03b03 ∷ drive 95528 3 0x00000 ∷ drive 95583 7 0x07b03 ∷ drive 95583 3 0x08000 ∷ drive 95583 7 0x03a01 ∷ drive 95583 3 0x00000 ∷ drive 95638 7 0x07a01 ∷ drive 95638 3 0x08000 ∷ drive 95638 7 0x03a32 ∷ drive 95638 3 0x00000 ∷ drive 95693 7 0x07a32 ∷ drive 95693 3 0x08000 ∷ drive 95693 7 0x03a10 ∷ drive 95693 3 0x00000 ∷ drive 95748 7 0x07a10 ∷ drive 95748 3 0x08000 ∷ drive 95748 7 0x03a00 ∷ drive 95748 3 0x00000 ∷ drive 95748 7 0x00a00 ∷ drive 96148 7 0x04a00 ∷ drive 96148 3 0x00008 ∷ drive 96203 3 0x08008 ∷ drive 96203 7 0x00a00 ∷ drive 96203 3 0x00000 ∷ drive 96203 7 0x04a00 ∷ drive 96203 3 0x00002 ∷ drive 96258 3 0x08002 ∷ drive 96258 7 0x00a00 ∷ drive 96258 3 0x00000 ∷ drive 96258 7 0x04a00 ∷ drive 96258 3 0x00100 ∷ drive 96313 3 0x08100 ∷ drive 96313 7 0x00a00 ∷ drive 96313 3 0x00000 ∷ drive 96313 7 0x04a00 ∷ drive 96313 3 0x00100 ∷ drive 96368 3 0x08100 ∷ drive 96368 7 0x00a00 ∷ drive 96368 3 0x00000 ∷ drive 96368 7 0x04a00 ∷ drive 96368 3 0x00001 ∷ drive 96423 3 0x08001 ∷ drive 96423 7 0x00a00 ∷ drive 96423 3 0x00000 ∷ drive 96423 7 0x04a00 ∷ drive 96423 3 0x00100 ∷ drive 96478 3 0x08100 ∷ drive 96478 7 0x00a00 ∷ drive 96478 3 0x00000 ∷ drive 96478 7 0x03a00 ∷ drive 97278 7 0x03a04 ∷ drive 97333 7 0x07a04 ∷ drive 97333 3 0x08000 ∷ drive 97333 7 0x03a00 ∷ drive 97333 3 0x00000 ∷ drive 97333 7 0x00000 ∷ drive 98533 7 0x00280 ∷ drive 100933 7 0x00680 ∷ drive 102133 7 0x01788 ∷ drive 102223 7 0x01588 ∷ drive 102623 3 0x00200 ∷ drive 102623 7 0x01788 ∷ drive 102713 7 0x03a80 ∷ drive 102713 3 0x00000 ∷ drive 103113 7 0x07a80 ∷ drive 103113 3 0x08000 ∷ drive 103113 7 0x03a20 ∷ drive 103113 3 0x00000 ∷ drive 103168 7 0x07a20 ∷ drive 103168 3 0x08000 ∷ drive 103168 7 0x03bff ∷ drive 103168 3 0x00000 ∷ drive 103223 7 0x07bff ∷ drive 103223 3 0x08000 ∷ drive 103223 7 0x03a00 ∷ drive 103223 3 0x00000 ∷ drive 103223 7 0x01a02 ∷ drive 103623 7 0x05a02 ∷ drive 103623 3 0x08000 ∷ drive 103623 7 0x01a00 ∷ drive 103623 3 0x00000 ∷ drive 103623 7 0x03b00 ∷ drive 104023 7 0x07b00 ∷ drive 104023 3 0x08000 ∷ drive 104023 7 0x03a00 ∷ drive 104023 3 0x00000 ∷ drive 104023 7 0x00000 ∷ drive 105223 3 0x00208 ∷ drive 107623 3 0x00608 ∷ drive 108823 3 0x1070a ∷ drive 108913 3 0x1050a ∷ drive 109333 1 0x00200 ∷ drive 109423 3 0x10000 ∷ drive 109443 1 0x02a00 ∷ drive 109863 1 0x06a00 ∷ drive 109863 3 0x10182 ∷ drive 109918 3 0x18182 ∷ drive 109938 1 0x02a00 ∷ drive 109938 3 0x10000 ∷ drive 109958 1 0x06a00 ∷ drive 109958 3 0x10020 ∷ drive 110013 3 0x18020 ∷ drive 110033 1 0x02a00 ∷ drive 110033 3 0x10000 ∷ drive 110053 1 0x06a00 ∷ drive 110053 3 0x10002 ∷ drive 110108 3 0x18002 ∷ drive 110128 1 0x02a00 ∷ drive 110128 3 0x10000 ∷ drive 110148 1 0x06a00 ∷ drive 110148 3 0x0000d ∷ drive 110238 3 0x0800d ∷ drive 110258 1 0x02a00 ∷ drive 110258 3 0x00000 ∷ drive 110278 1 0x00000 ∷ drive 111478 3 0x00208 ∷ drive 113878 3 0x00608 ∷ drive 115078 3 0x10788 ∷ drive 115168 3 0x10588 ∷ strike 115568 7 5 ∷ drive 250115168 3 0x10400 ∷ drive 250315258 3 0x00000 ∷ drive 250316458 3 0x00208 ∷ drive 250318858 3 0x00608 ∷ drive 250320058 3 0x10718 ∷ drive 250320148 3 0x10518 ∷ strike 250320548 4 7 ∷ drive 500320148 3 0x10400 ∷ drive 500520238 3 0x00000 ∷ drive 500521438 3 0x00208 ∷ drive 500523838 3 0x00608 ∷ drive 500525038 3 0x10718 ∷ drive 500525128 3 0x10518 ∷ drive 500525528 4 0x00200 ∷ drive 500525618 3 0x10000 ∷ drive 500525618 4 0x02a00 ∷ drive 500526018 4 0x06a00 ∷ drive 500526018 3 0x10187 ∷ drive 500526073 3 0x18187 ∷ drive 500526073 4 0x02a00 ∷ drive 500526073 3 0x10000 ∷ drive 500526073 4 0x06a00 ∷ drive 500526073 3 0x0010c ∷ drive 500526163 3 0x0810c ∷ drive 500526163 4 0x02a00 ∷ drive 500526163 3 0x00000 ∷ drive 500526163 4 0x00000 ∷ drive 500527363 3 0x00208 ∷ drive 500529763 3 0x00608 ∷ drive 500530963 3 0x10788 ∷ drive 500531053 3 0x10588 ∷ drive 500531453 7 0x00200 ∷ drive 500531543 3 0x10000 ∷ drive 500531543 7 0x02a00 ∷ drive 500531943 7 0x06a00 ∷ drive 500531943 3 0x00080 ∷ drive 500532033 3 0x08080 ∷ drive 500532033 7 0x02a00 ∷ drive 500532033 3 0x00000 ∷ drive 500532033 7 0x00a00 ∷ drive 500532433 7 0x04a00 ∷ drive 500532433 3 0x00103 ∷ drive 500532488 3 0x08103 ∷ drive 500532488 7 0x00a00 ∷ drive 500532488 3 0x00000 ∷ drive 500532488 7 0x04a00 ∷ drive 500532488 3 0x00100 ∷ drive 500532543 3 0x08100 ∷ drive 500532543 7 0x00a00 ∷ drive 500532543 3 0x00000 ∷ drive 500532543 7 0x04a00 ∷ drive 500532543 3 0x00100 ∷ drive 500532598 3 0x08100 ∷ drive 500532598 7 0x00a00 ∷ drive 500532598 3 0x00000 ∷ drive 500532598 7 0x04a00 ∷ drive 500532598 3 0x00100 ∷ drive 500532653 3 0x08100 ∷ drive 500532653 7 0x00a00 ∷ drive 500532653 3 0x00000 ∷ drive 500532653 7 0x04a00 ∷ drive 500532653 3 0x00112 ∷ drive 500532708 3 0x08112 ∷ drive 500532708 7 0x00a00 ∷ drive 500532708 3 0x00000 ∷ drive 500532708 7 0x04a00 ∷ drive 500532708 3 0x00100 ∷ drive 500532763 3 0x08100 ∷ drive 500532763 7 0x00a00 ∷ drive 500532763 3 0x00000 ∷ drive 500532763 7 0x01200 ∷ drive 500533563 7 0x01270 ∷ drive 500533618 7 0x05270 ∷ drive 500533618 3 0x08000 ∷ drive 500533708 7 0x01270 ∷ drive 500533708 3 0x00000 ∷ drive 500533718 7 0x01300 ∷ drive 500533818 7 0x05300 ∷ drive 500533818 3 0x08000 ∷ drive 500533908 7 0x01300 ∷ drive 500533908 3 0x00000 ∷ drive 500533918 7 0x01305 ∷ drive 500534018 7 0x05305 ∷ drive 500534018 3 0x08000 ∷ drive 500534108 7 0x01305 ∷ drive 500534108 3 0x00000 ∷ drive 500534118 7 0x01300 ∷ drive 500534218 7 0x05300 ∷ drive 500534218 3 0x08000 ∷ drive 500534308 7 0x01300 ∷ drive 500534308 3 0x00000 ∷ drive 500534418 7 0x05300 ∷ drive 500534418 3 0x08000 ∷ drive 500534508 7 0x01300 ∷ drive 500534508 3 0x00000 ∷ drive 500534618 7 0x05300 ∷ drive 500534618 3 0x08000 ∷ drive 500534708 7 0x01300 ∷ drive 500534708 3 0x00000 ∷ drive 500534818 7 0x05300 ∷ drive 500534818 3 0x08000 ∷ drive 500534908 7 0x01300 ∷ drive 500534908 3 0x00000 ∷ drive 500534918 7 0x0130a ∷ drive 500535018 7 0x0530a ∷ drive 500535018 3 0x08000 ∷ drive 500535108 7 0x0130a ∷ drive 500535108 3 0x00000 ∷ drive 500535118 7 0x01300 ∷ drive 500535218 7 0x05300 ∷ drive 500535218 3 0x08000 ∷ drive 500535308 7 0x01300 ∷ drive 500535308 3 0x00000 ∷ drive 500535418 7 0x05300 ∷ drive 500535418 3 0x08000 ∷ drive 500535508 7 0x01300 ∷ drive 500535508 3 0x00000 ∷ drive 500535618 7 0x05300 ∷ drive 500535618 3 0x08000 ∷ drive 500535708 7 0x01300 ∷ drive 500535708 3 0x00000 ∷ drive 500535818 7 0x05300 ∷ drive 500535818 3 0x08000 ∷ drive 500535908 7 0x01300 ∷ drive 500535908 3 0x00000 ∷ drive 500535918 7 0x01321 ∷ drive 500536018 7 0x05321 ∷ drive 500536018 3 0x08000 ∷ drive 500536108 7 0x01321 ∷ drive 500536108 3 0x00000 ∷ drive 500536118 7 0x01300 ∷ drive 500536218 7 0x05300 ∷ drive 500536218 3 0x08000 ∷ drive 500536308 7 0x01300 ∷ drive 500536308 3 0x00000 ∷ drive 500536418 7 0x05300 ∷ drive 500536418 3 0x08000 ∷ drive 500536508 7 0x01300 ∷ drive 500536508 3 0x00000 ∷ drive 500536618 7 0x05300 ∷ drive 500536618 3 0x08000 ∷ drive 500536708 7 0x01300 ∷ drive 500536708 3 0x00000 ∷ drive 500536818 7 0x05300 ∷ drive 500536818 3 0x08000 ∷ drive 500536908 7 0x01300 ∷ drive 500536908 3 0x00000 ∷ drive 500537018 7 0x05300 ∷ drive 500537018 3 0x08000 ∷ drive 500537108 7 0x01300 ∷ drive 500537108 3 0x00000 ∷ drive 500537118 7 0x01200 ∷ drive 500537118 7 0x01b00 ∷ drive 500537518 7 0x05b00 ∷ drive 500537518 3 0x08000 ∷ drive 500537518 7 0x01a00 ∷ drive 500537518 3 0x00000 ∷ drive 500537518 7 0x03b00 ∷ drive 500537918 7 0x07b00 ∷ drive 500537918 3 0x08000 ∷ drive 500537918 7 0x03a00 ∷ drive 500537918 3 0x00000 ∷ drive 500537918 7 0x00000 ∷ []

abbrev two_aborts_told_events : List Item
two_aborts_told_events = items.Arrive (process 3 7 (Some 0) (Some 255) 1) ∷ items.Ready (process 3 7 (Some 0) (Some 255) 1) ∷ items.End (process 3 7 (Some 0) (Some 255) 1) (Some 2) ∷ items.Abort 3 1 (Some 2) (aborts.Tag 2) ∷ items.Abort 3 4 (Some 7) aborts.Device ∷ items.Arrive (process 3 7 (Some 0) None 1) ∷ items.Ready (process 3 7 (Some 0) None 1) ∷ items.End (process 3 7 (Some 0) None 1) (Some 0) ∷ []

two_aborts_told_shown : events_shown two_aborts_told (reverse two_aborts_told_rows) ≡ two_aborts_told_events
unfolding need_of sent_of ones union_below line_of form_out form_in by_change closed_by
two_aborts_told_shown = refl

two_aborts_told_named : named_history two_aborts_told (reverse two_aborts_told_rows) ≡ two_aborts_told_events
unfolding need_of sent_of ones union_below line_of form_out form_in by_change closed_by
two_aborts_told_named = refl

pub two_aborts_told_alike : TellsHistory two_aborts_told (reverse two_aborts_told_rows)
two_aborts_told_alike = two_aborts_told_shown ∙ sym two_aborts_told_named
