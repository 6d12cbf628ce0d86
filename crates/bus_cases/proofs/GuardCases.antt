-- Whole runs, computed from their scenarios by what is due, are those of their reports, which an independent simulator printed. Each
-- decides a condition of the definitions that no other run does. Written by tools/makers/guard_case.py.
use Rattle.due_model.specs.bus_trace.specs.LineSet.{set_of}
use Rattle.due_model.specs.bus_trace.specs.declared.Row.{Row}
use Rattle.due_model.specs.bus_trace.specs.declared.Kind.TheVariants.{Drives, Fault}
use Rattle.std.proofs.Common.{ℕ, ◌≡◌, Bool, true, false, List, [], ◌∷◌, reverse, refl}
use Rattle.std.specs.Prelude.{Option, Some, None}
use lib.Count.{ones}
use Rattle.due_model.specs.bus_base.specs.declared.ProcId.{ProcId}
use Rattle.due_model.specs.bus_base.specs.declared.AbortKind.TheVariants as aborts
use Rattle.due_model.specs.bus_base.specs.declared.Event.{Event}
use Rattle.due_model.specs.bus_base.specs.declared.Event.TheVariants as events
use Rattle.due_model.specs.bus_base.specs.declared.events.Pick.TheVariants as picks
use Rattle.due_model.specs.scenario.specs.declared.value.FillDef.{FillDef}
use Rattle.due_model.specs.scenario.specs.declared.value.UnitDef.{UnitDef}
use Rattle.due_model.specs.scenario.specs.declared.value.Policy.TheVariants as policies
use Rattle.due_model.specs.scenario.specs.declared.value.Load.TheVariants as loads
use Rattle.due_model.specs.scenario.specs.declared.value.Tag.TheVariants as tags
use Rattle.due_model.specs.scenario.specs.declared.value.Payload.TheVariants as payloads
use Rattle.due_model.specs.scenario.specs.Value.{ScenarioValue}
use Rattle.due_model.specs.scenario.specs.Needs.{need_of, sent_of}
use Rattle.due_model.specs.array_model.specs.Contents.{Contents, starting_contents, printed_blocks}
use Rattle.due_model.specs.array_model.specs.Execution.{Reply, good, check_condition, queue_full, sense_of}
use Rattle.due_model.specs.array_model.specs.ArrayHistory.{array_after, disks_of, reply_of}
use Rattle.due_model.specs.bus_trace.specs.LineSet.{line_of}
use Rattle.due_model.specs.bus_trace.specs.View.{union_below}
use Rattle.due_model.specs.msg_grammar.specs.Messages.{form_out, form_in}
use Rattle.due_model.specs.Next.{least}
use Rattle.due_model.specs.Run.{run_from, run_by_due}
use Rattle.due_model.proofs.Cases.{Shows, shown}

abbrev drive : ℕ → ℕ → ℕ → Row
drive time dev lines = record { time = time; dev = dev; kind = Drives (set_of lines) }

abbrev strike : ℕ → ℕ → ℕ → Row
strike time dev bit = record { time = time; dev = dev; kind = Fault bit }

abbrev command : ℕ → ProcId
command n = record { command = n; sense = false }

abbrev sense : ℕ → ProcId
sense n = record { command = n; sense = true }

-- ---- abort_leaves_the_offer_guard

abbrev pub abort_leaves_the_offer_guard : ScenarioValue
abort_leaves_the_offer_guard = record {
  version = 1;
  hosts = record { dev = 7; latency = 0; most = 4; retries = 2; period = 50; offset = 8; lag = 0; offers = true } ∷ [];
  targets = record { dev = 0; latency = 0; retries = 2; disc = policies.Never; pick = picks.First; seek = 0; period = 50; offset = 8; begins = false } ∷ [];
  units = record { target = 0; unit = 0; blocks = 1; size = 16; depth = 4 } ∷ [];
  fills = [];
  tapes = [];
  loads = [];
  commands = record { host = 7; target = 0; unit = 0; at = 20000; tag = tags.Untagged; cdb = (8 ∷ 0 ∷ 0 ∷ 0 ∷ 1 ∷ 0 ∷ []); payload = payloads.Nothing } ∷ [];
  aborts = record { host = 7; target = 0; unit = 0; at = 0; what = aborts.All } ∷ [];
  resets = [];
  faults = [];
}

abbrev pub abort_leaves_the_offer_guard_rows : List Row
abort_leaves_the_offer_guard_rows = drive 1200 7 0x00280 ∷ drive 3600 7 0x00680 ∷ drive 4800 7 0x10781 ∷ drive 4890 7 0x10581 ∷ drive 5290 0 0x00200 ∷ drive 5380 7 0x10000 ∷ drive 5380 0 0x02a00 ∷ drive 5780 0 0x06a00 ∷ drive 5780 7 0x10080 ∷ drive 5835 7 0x18080 ∷ drive 5835 0 0x02a00 ∷ drive 5835 7 0x10000 ∷ drive 5835 0 0x06a00 ∷ drive 5835 7 0x00106 ∷ drive 5925 7 0x08106 ∷ drive 5925 0 0x02a00 ∷ drive 5925 7 0x00000 ∷ drive 5925 0 0x00000 ∷ drive 20000 7 0x00280 ∷ drive 22400 7 0x00680 ∷ drive 23600 7 0x10781 ∷ drive 23690 7 0x10581 ∷ drive 24090 0 0x00200 ∷ drive 24180 7 0x10000 ∷ drive 24180 0 0x02a00 ∷ drive 24580 0 0x06a00 ∷ drive 24580 7 0x101c0 ∷ drive 24635 7 0x181c0 ∷ drive 24635 0 0x02a00 ∷ drive 24635 7 0x10000 ∷ drive 24635 0 0x06a00 ∷ drive 24635 7 0x10001 ∷ drive 24690 7 0x18001 ∷ drive 24690 0 0x02a00 ∷ drive 24690 7 0x10000 ∷ drive 24690 0 0x06a00 ∷ drive 24690 7 0x10103 ∷ drive 24745 7 0x18103 ∷ drive 24745 0 0x02a00 ∷ drive 24745 7 0x10000 ∷ drive 24745 0 0x06a00 ∷ drive 24745 7 0x10001 ∷ drive 24800 7 0x18001 ∷ drive 24800 0 0x02a00 ∷ drive 24800 7 0x10000 ∷ drive 24800 0 0x06a00 ∷ drive 24800 7 0x10032 ∷ drive 24855 7 0x18032 ∷ drive 24855 0 0x02a00 ∷ drive 24855 7 0x10000 ∷ drive 24855 0 0x06a00 ∷ drive 24855 7 0x00008 ∷ drive 24945 7 0x08008 ∷ drive 24945 0 0x02a00 ∷ drive 24945 7 0x00000 ∷ drive 24945 0 0x03a00 ∷ drive 25745 0 0x03a01 ∷ drive 25800 0 0x07a01 ∷ drive 25800 7 0x08000 ∷ drive 25800 0 0x03b03 ∷ drive 25800 7 0x00000 ∷ drive 25855 0 0x07b03 ∷ drive 25855 7 0x08000 ∷ drive 25855 0 0x03a01 ∷ drive 25855 7 0x00000 ∷ drive 25910 0 0x07a01 ∷ drive 25910 7 0x08000 ∷ drive 25910 0 0x03a32 ∷ drive 25910 7 0x00000 ∷ drive 25965 0 0x07a32 ∷ drive 25965 7 0x08000 ∷ drive 25965 0 0x03a08 ∷ drive 25965 7 0x00000 ∷ drive 26020 0 0x07a08 ∷ drive 26020 7 0x08000 ∷ drive 26020 0 0x03a00 ∷ drive 26020 7 0x00000 ∷ drive 26020 0 0x00a00 ∷ drive 26420 0 0x04a00 ∷ drive 26420 7 0x00008 ∷ drive 26475 7 0x08008 ∷ drive 26475 0 0x00a00 ∷ drive 26475 7 0x00000 ∷ drive 26475 0 0x04a00 ∷ drive 26475 7 0x00100 ∷ drive 26530 7 0x08100 ∷ drive 26530 0 0x00a00 ∷ drive 26530 7 0x00000 ∷ drive 26530 0 0x04a00 ∷ drive 26530 7 0x00100 ∷ drive 26585 7 0x08100 ∷ drive 26585 0 0x00a00 ∷ drive 26585 7 0x00000 ∷ drive 26585 0 0x04a00 ∷ drive 26585 7 0x00100 ∷ drive 26640 7 0x08100 ∷ drive 26640 0 0x00a00 ∷ drive 26640 7 0x00000 ∷ drive 26640 0 0x04a00 ∷ drive 26640 7 0x00001 ∷ drive 26695 7 0x08001 ∷ drive 26695 0 0x00a00 ∷ drive 26695 7 0x00000 ∷ drive 26695 0 0x04a00 ∷ drive 26695 7 0x00100 ∷ drive 26750 7 0x08100 ∷ drive 26750 0 0x00a00 ∷ drive 26750 7 0x00000 ∷ drive 26750 0 0x01200 ∷ drive 27550 0 0x01300 ∷ drive 27605 0 0x05300 ∷ drive 27605 7 0x08000 ∷ drive 27695 7 0x00000 ∷ drive 27695 0 0x01300 ∷ drive 27805 0 0x05300 ∷ drive 27805 7 0x08000 ∷ drive 27895 7 0x00000 ∷ drive 27895 0 0x01300 ∷ drive 28005 0 0x05300 ∷ drive 28005 7 0x08000 ∷ drive 28095 7 0x00000 ∷ drive 28095 0 0x01300 ∷ drive 28205 0 0x05300 ∷ drive 28205 7 0x08000 ∷ drive 28295 7 0x00000 ∷ drive 28295 0 0x01300 ∷ drive 28405 0 0x05300 ∷ drive 28405 7 0x08000 ∷ drive 28495 7 0x00000 ∷ drive 28495 0 0x01300 ∷ drive 28605 0 0x05300 ∷ drive 28605 7 0x08000 ∷ drive 28695 7 0x00000 ∷ drive 28695 0 0x01300 ∷ drive 28805 0 0x05300 ∷ drive 28805 7 0x08000 ∷ drive 28895 7 0x00000 ∷ drive 28895 0 0x01300 ∷ drive 29005 0 0x05300 ∷ drive 29005 7 0x08000 ∷ drive 29095 7 0x00000 ∷ drive 29095 0 0x01300 ∷ drive 29205 0 0x05300 ∷ drive 29205 7 0x08000 ∷ drive 29295 7 0x00000 ∷ drive 29295 0 0x01300 ∷ drive 29405 0 0x05300 ∷ drive 29405 7 0x08000 ∷ drive 29495 7 0x00000 ∷ drive 29495 0 0x01300 ∷ drive 29605 0 0x05300 ∷ drive 29605 7 0x08000 ∷ drive 29695 7 0x00000 ∷ drive 29695 0 0x01300 ∷ drive 29805 0 0x05300 ∷ drive 29805 7 0x08000 ∷ drive 29895 7 0x00000 ∷ drive 29895 0 0x01300 ∷ drive 30005 0 0x05300 ∷ drive 30005 7 0x08000 ∷ drive 30095 7 0x00000 ∷ drive 30095 0 0x01300 ∷ drive 30205 0 0x05300 ∷ drive 30205 7 0x08000 ∷ drive 30295 7 0x00000 ∷ drive 30295 0 0x01300 ∷ drive 30405 0 0x05300 ∷ drive 30405 7 0x08000 ∷ drive 30495 7 0x00000 ∷ drive 30495 0 0x01300 ∷ drive 30605 0 0x05300 ∷ drive 30605 7 0x08000 ∷ drive 30695 7 0x00000 ∷ drive 30695 0 0x01300 ∷ drive 30705 0 0x01200 ∷ drive 30705 0 0x01b00 ∷ drive 31105 0 0x05b00 ∷ drive 31105 7 0x08000 ∷ drive 31105 0 0x01a00 ∷ drive 31105 7 0x00000 ∷ drive 31105 0 0x03b00 ∷ drive 31505 0 0x07b00 ∷ drive 31505 7 0x08000 ∷ drive 31505 0 0x03a00 ∷ drive 31505 7 0x00000 ∷ drive 31505 0 0x00000 ∷ []

abbrev abort_leaves_the_offer_guard_events : List Event
abort_leaves_the_offer_guard_events = events.Aborted 7 0 0 aborts.All ∷ events.Accept (command 1) ∷ events.Run (command 1) ∷ events.End (command 1) 0 ∷ []

abbrev pub abort_leaves_the_offer_guard_shown : Shows
abort_leaves_the_offer_guard_shown = record { rows = reverse abort_leaves_the_offer_guard_rows; history = reverse abort_leaves_the_offer_guard_events; ended = true }

abort_leaves_the_offer_guard_run : shown (run_by_due abort_leaves_the_offer_guard 187) ≡ abort_leaves_the_offer_guard_shown
unfolding need_of sent_of ones union_below line_of form_out form_in least run_from
abort_leaves_the_offer_guard_run = refl

-- ---- agreement_of_another_reset_guard

abbrev pub agreement_of_another_reset_guard : ScenarioValue
agreement_of_another_reset_guard = record {
  version = 1;
  hosts = record { dev = 7; latency = 0; most = 4; retries = 2; period = 0; offset = 0; lag = 0; offers = true } ∷ record { dev = 6; latency = 0; most = 4; retries = 2; period = 50; offset = 8; lag = 0; offers = true } ∷ [];
  targets = record { dev = 0; latency = 0; retries = 2; disc = policies.Never; pick = picks.First; seek = 0; period = 50; offset = 8; begins = false } ∷ [];
  units = record { target = 0; unit = 0; blocks = 1; size = 16; depth = 4 } ∷ [];
  fills = [];
  tapes = [];
  loads = [];
  commands = record { host = 6; target = 0; unit = 0; at = 0; tag = tags.Untagged; cdb = (8 ∷ 0 ∷ 0 ∷ 0 ∷ 1 ∷ 0 ∷ []); payload = payloads.Nothing } ∷ record { host = 6; target = 0; unit = 0; at = 100000; tag = tags.Untagged; cdb = (3 ∷ 0 ∷ 0 ∷ 0 ∷ 18 ∷ 0 ∷ []); payload = payloads.Nothing } ∷ [];
  aborts = record { host = 7; target = 0; unit = 0; at = 50000; what = aborts.Device } ∷ [];
  resets = [];
  faults = [];
}

abbrev pub agreement_of_another_reset_guard_rows : List Row
agreement_of_another_reset_guard_rows = drive 1200 6 0x00240 ∷ drive 3600 6 0x00640 ∷ drive 4800 6 0x10741 ∷ drive 4890 6 0x10541 ∷ drive 5290 0 0x00200 ∷ drive 5380 6 0x10000 ∷ drive 5380 0 0x02a00 ∷ drive 5780 0 0x06a00 ∷ drive 5780 6 0x101c0 ∷ drive 5835 6 0x181c0 ∷ drive 5835 0 0x02a00 ∷ drive 5835 6 0x10000 ∷ drive 5835 0 0x06a00 ∷ drive 5835 6 0x10001 ∷ drive 5890 6 0x18001 ∷ drive 5890 0 0x02a00 ∷ drive 5890 6 0x10000 ∷ drive 5890 0 0x06a00 ∷ drive 5890 6 0x10103 ∷ drive 5945 6 0x18103 ∷ drive 5945 0 0x02a00 ∷ drive 5945 6 0x10000 ∷ drive 5945 0 0x06a00 ∷ drive 5945 6 0x10001 ∷ drive 6000 6 0x18001 ∷ drive 6000 0 0x02a00 ∷ drive 6000 6 0x10000 ∷ drive 6000 0 0x06a00 ∷ drive 6000 6 0x10032 ∷ drive 6055 6 0x18032 ∷ drive 6055 0 0x02a00 ∷ drive 6055 6 0x10000 ∷ drive 6055 0 0x06a00 ∷ drive 6055 6 0x00008 ∷ drive 6145 6 0x08008 ∷ drive 6145 0 0x02a00 ∷ drive 6145 6 0x00000 ∷ drive 6145 0 0x03a00 ∷ drive 6945 0 0x03a01 ∷ drive 7000 0 0x07a01 ∷ drive 7000 6 0x08000 ∷ drive 7000 0 0x03b03 ∷ drive 7000 6 0x00000 ∷ drive 7055 0 0x07b03 ∷ drive 7055 6 0x08000 ∷ drive 7055 0 0x03a01 ∷ drive 7055 6 0x00000 ∷ drive 7110 0 0x07a01 ∷ drive 7110 6 0x08000 ∷ drive 7110 0 0x03a32 ∷ drive 7110 6 0x00000 ∷ drive 7165 0 0x07a32 ∷ drive 7165 6 0x08000 ∷ drive 7165 0 0x03a08 ∷ drive 7165 6 0x00000 ∷ drive 7220 0 0x07a08 ∷ drive 7220 6 0x08000 ∷ drive 7220 0 0x03a00 ∷ drive 7220 6 0x00000 ∷ drive 7220 0 0x00a00 ∷ drive 7620 0 0x04a00 ∷ drive 7620 6 0x00008 ∷ drive 7675 6 0x08008 ∷ drive 7675 0 0x00a00 ∷ drive 7675 6 0x00000 ∷ drive 7675 0 0x04a00 ∷ drive 7675 6 0x00100 ∷ drive 7730 6 0x08100 ∷ drive 7730 0 0x00a00 ∷ drive 7730 6 0x00000 ∷ drive 7730 0 0x04a00 ∷ drive 7730 6 0x00100 ∷ drive 7785 6 0x08100 ∷ drive 7785 0 0x00a00 ∷ drive 7785 6 0x00000 ∷ drive 7785 0 0x04a00 ∷ drive 7785 6 0x00100 ∷ drive 7840 6 0x08100 ∷ drive 7840 0 0x00a00 ∷ drive 7840 6 0x00000 ∷ drive 7840 0 0x04a00 ∷ drive 7840 6 0x00001 ∷ drive 7895 6 0x08001 ∷ drive 7895 0 0x00a00 ∷ drive 7895 6 0x00000 ∷ drive 7895 0 0x04a00 ∷ drive 7895 6 0x00100 ∷ drive 7950 6 0x08100 ∷ drive 7950 0 0x00a00 ∷ drive 7950 6 0x00000 ∷ drive 7950 0 0x01200 ∷ drive 8750 0 0x01300 ∷ drive 8805 0 0x05300 ∷ drive 8805 6 0x08000 ∷ drive 8895 6 0x00000 ∷ drive 8895 0 0x01300 ∷ drive 9005 0 0x05300 ∷ drive 9005 6 0x08000 ∷ drive 9095 6 0x00000 ∷ drive 9095 0 0x01300 ∷ drive 9205 0 0x05300 ∷ drive 9205 6 0x08000 ∷ drive 9295 6 0x00000 ∷ drive 9295 0 0x01300 ∷ drive 9405 0 0x05300 ∷ drive 9405 6 0x08000 ∷ drive 9495 6 0x00000 ∷ drive 9495 0 0x01300 ∷ drive 9605 0 0x05300 ∷ drive 9605 6 0x08000 ∷ drive 9695 6 0x00000 ∷ drive 9695 0 0x01300 ∷ drive 9805 0 0x05300 ∷ drive 9805 6 0x08000 ∷ drive 9895 6 0x00000 ∷ drive 9895 0 0x01300 ∷ drive 10005 0 0x05300 ∷ drive 10005 6 0x08000 ∷ drive 10095 6 0x00000 ∷ drive 10095 0 0x01300 ∷ drive 10205 0 0x05300 ∷ drive 10205 6 0x08000 ∷ drive 10295 6 0x00000 ∷ drive 10295 0 0x01300 ∷ drive 10405 0 0x05300 ∷ drive 10405 6 0x08000 ∷ drive 10495 6 0x00000 ∷ drive 10495 0 0x01300 ∷ drive 10605 0 0x05300 ∷ drive 10605 6 0x08000 ∷ drive 10695 6 0x00000 ∷ drive 10695 0 0x01300 ∷ drive 10805 0 0x05300 ∷ drive 10805 6 0x08000 ∷ drive 10895 6 0x00000 ∷ drive 10895 0 0x01300 ∷ drive 11005 0 0x05300 ∷ drive 11005 6 0x08000 ∷ drive 11095 6 0x00000 ∷ drive 11095 0 0x01300 ∷ drive 11205 0 0x05300 ∷ drive 11205 6 0x08000 ∷ drive 11295 6 0x00000 ∷ drive 11295 0 0x01300 ∷ drive 11405 0 0x05300 ∷ drive 11405 6 0x08000 ∷ drive 11495 6 0x00000 ∷ drive 11495 0 0x01300 ∷ drive 11605 0 0x05300 ∷ drive 11605 6 0x08000 ∷ drive 11695 6 0x00000 ∷ drive 11695 0 0x01300 ∷ drive 11805 0 0x05300 ∷ drive 11805 6 0x08000 ∷ drive 11895 6 0x00000 ∷ drive 11895 0 0x01300 ∷ drive 11905 0 0x01200 ∷ drive 11905 0 0x01b00 ∷ drive 12305 0 0x05b00 ∷ drive 12305 6 0x08000 ∷ drive 12305 0 0x01a00 ∷ drive 12305 6 0x00000 ∷ drive 12305 0 0x03b00 ∷ drive 12705 0 0x07b00 ∷ drive 12705 6 0x08000 ∷ drive 12705 0 0x03a00 ∷ drive 12705 6 0x00000 ∷ drive 12705 0 0x00000 ∷ drive 50000 7 0x00280 ∷ drive 52400 7 0x00680 ∷ drive 53600 7 0x10781 ∷ drive 53690 7 0x10581 ∷ drive 54090 0 0x00200 ∷ drive 54180 7 0x10000 ∷ drive 54180 0 0x02a00 ∷ drive 54580 0 0x06a00 ∷ drive 54580 7 0x10080 ∷ drive 54635 7 0x18080 ∷ drive 54635 0 0x02a00 ∷ drive 54635 7 0x10000 ∷ drive 54635 0 0x06a00 ∷ drive 54635 7 0x0010c ∷ drive 54725 7 0x0810c ∷ drive 54725 0 0x02a00 ∷ drive 54725 7 0x00000 ∷ drive 54725 0 0x00000 ∷ drive 100000 6 0x00240 ∷ drive 102400 6 0x00640 ∷ drive 103600 6 0x10741 ∷ drive 103690 6 0x10541 ∷ drive 104090 0 0x00200 ∷ drive 104180 6 0x10000 ∷ drive 104180 0 0x02a00 ∷ drive 104580 0 0x06a00 ∷ drive 104580 6 0x001c0 ∷ drive 104670 6 0x081c0 ∷ drive 104670 0 0x02a00 ∷ drive 104670 6 0x00000 ∷ drive 104670 0 0x00a00 ∷ drive 105070 0 0x04a00 ∷ drive 105070 6 0x00103 ∷ drive 105125 6 0x08103 ∷ drive 105125 0 0x00a00 ∷ drive 105125 6 0x00000 ∷ drive 105125 0 0x04a00 ∷ drive 105125 6 0x00100 ∷ drive 105180 6 0x08100 ∷ drive 105180 0 0x00a00 ∷ drive 105180 6 0x00000 ∷ drive 105180 0 0x04a00 ∷ drive 105180 6 0x00100 ∷ drive 105235 6 0x08100 ∷ drive 105235 0 0x00a00 ∷ drive 105235 6 0x00000 ∷ drive 105235 0 0x04a00 ∷ drive 105235 6 0x00100 ∷ drive 105290 6 0x08100 ∷ drive 105290 0 0x00a00 ∷ drive 105290 6 0x00000 ∷ drive 105290 0 0x04a00 ∷ drive 105290 6 0x00112 ∷ drive 105345 6 0x08112 ∷ drive 105345 0 0x00a00 ∷ drive 105345 6 0x00000 ∷ drive 105345 0 0x04a00 ∷ drive 105345 6 0x00100 ∷ drive 105400 6 0x08100 ∷ drive 105400 0 0x00a00 ∷ drive 105400 6 0x00000 ∷ drive 105400 0 0x01200 ∷ drive 106200 0 0x01270 ∷ drive 106255 0 0x05270 ∷ drive 106255 6 0x08000 ∷ drive 106255 0 0x01300 ∷ drive 106255 6 0x00000 ∷ drive 106310 0 0x05300 ∷ drive 106310 6 0x08000 ∷ drive 106310 0 0x01300 ∷ drive 106310 6 0x00000 ∷ drive 106365 0 0x05300 ∷ drive 106365 6 0x08000 ∷ drive 106365 0 0x01300 ∷ drive 106365 6 0x00000 ∷ drive 106420 0 0x05300 ∷ drive 106420 6 0x08000 ∷ drive 106420 0 0x01300 ∷ drive 106420 6 0x00000 ∷ drive 106475 0 0x05300 ∷ drive 106475 6 0x08000 ∷ drive 106475 0 0x01300 ∷ drive 106475 6 0x00000 ∷ drive 106530 0 0x05300 ∷ drive 106530 6 0x08000 ∷ drive 106530 0 0x01300 ∷ drive 106530 6 0x00000 ∷ drive 106585 0 0x05300 ∷ drive 106585 6 0x08000 ∷ drive 106585 0 0x0130a ∷ drive 106585 6 0x00000 ∷ drive 106640 0 0x0530a ∷ drive 106640 6 0x08000 ∷ drive 106640 0 0x01300 ∷ drive 106640 6 0x00000 ∷ drive 106695 0 0x05300 ∷ drive 106695 6 0x08000 ∷ drive 106695 0 0x01300 ∷ drive 106695 6 0x00000 ∷ drive 106750 0 0x05300 ∷ drive 106750 6 0x08000 ∷ drive 106750 0 0x01300 ∷ drive 106750 6 0x00000 ∷ drive 106805 0 0x05300 ∷ drive 106805 6 0x08000 ∷ drive 106805 0 0x01300 ∷ drive 106805 6 0x00000 ∷ drive 106860 0 0x05300 ∷ drive 106860 6 0x08000 ∷ drive 106860 0 0x01300 ∷ drive 106860 6 0x00000 ∷ drive 106915 0 0x05300 ∷ drive 106915 6 0x08000 ∷ drive 106915 0 0x01300 ∷ drive 106915 6 0x00000 ∷ drive 106970 0 0x05300 ∷ drive 106970 6 0x08000 ∷ drive 106970 0 0x01300 ∷ drive 106970 6 0x00000 ∷ drive 107025 0 0x05300 ∷ drive 107025 6 0x08000 ∷ drive 107025 0 0x01300 ∷ drive 107025 6 0x00000 ∷ drive 107080 0 0x05300 ∷ drive 107080 6 0x08000 ∷ drive 107080 0 0x01300 ∷ drive 107080 6 0x00000 ∷ drive 107135 0 0x05300 ∷ drive 107135 6 0x08000 ∷ drive 107135 0 0x01300 ∷ drive 107135 6 0x00000 ∷ drive 107190 0 0x05300 ∷ drive 107190 6 0x08000 ∷ drive 107190 0 0x01200 ∷ drive 107190 6 0x00000 ∷ drive 107190 0 0x01b00 ∷ drive 107590 0 0x05b00 ∷ drive 107590 6 0x08000 ∷ drive 107590 0 0x01a00 ∷ drive 107590 6 0x00000 ∷ drive 107590 0 0x03b00 ∷ drive 107990 0 0x07b00 ∷ drive 107990 6 0x08000 ∷ drive 107990 0 0x03a00 ∷ drive 107990 6 0x00000 ∷ drive 107990 0 0x00000 ∷ []

abbrev agreement_of_another_reset_guard_events : List Event
agreement_of_another_reset_guard_events = events.Accept (command 1) ∷ events.Run (command 1) ∷ events.End (command 1) 0 ∷ events.Aborted 7 0 0 aborts.Device ∷ events.Accept (command 2) ∷ events.Run (command 2) ∷ events.End (command 2) 0 ∷ []

abbrev pub agreement_of_another_reset_guard_shown : Shows
agreement_of_another_reset_guard_shown = record { rows = reverse agreement_of_another_reset_guard_rows; history = reverse agreement_of_another_reset_guard_events; ended = true }

agreement_of_another_reset_guard_run : shown (run_by_due agreement_of_another_reset_guard 315) ≡ agreement_of_another_reset_guard_shown
unfolding need_of sent_of ones union_below line_of form_out form_in least run_from
agreement_of_another_reset_guard_run = refl

-- ---- agreements_of_two_initiators_guard

abbrev pub agreements_of_two_initiators_guard : ScenarioValue
agreements_of_two_initiators_guard = record {
  version = 1;
  hosts = record { dev = 7; latency = 0; most = 8; retries = 2; period = 50; offset = 8; lag = 0; offers = true } ∷ record { dev = 6; latency = 0; most = 8; retries = 2; period = 100; offset = 2; lag = 0; offers = true } ∷ [];
  targets = record { dev = 0; latency = 0; retries = 2; disc = policies.Never; pick = picks.First; seek = 0; period = 50; offset = 8; begins = false } ∷ [];
  units = record { target = 0; unit = 0; blocks = 1; size = 16; depth = 4 } ∷ [];
  fills = [];
  tapes = [];
  loads = [];
  commands = record { host = 7; target = 0; unit = 0; at = 0; tag = tags.Untagged; cdb = (8 ∷ 0 ∷ 0 ∷ 0 ∷ 1 ∷ 0 ∷ []); payload = payloads.Nothing } ∷ record { host = 6; target = 0; unit = 0; at = 0; tag = tags.Untagged; cdb = (8 ∷ 0 ∷ 0 ∷ 0 ∷ 1 ∷ 0 ∷ []); payload = payloads.Nothing } ∷ record { host = 7; target = 0; unit = 0; at = 30000; tag = tags.Untagged; cdb = (3 ∷ 0 ∷ 0 ∷ 0 ∷ 18 ∷ 0 ∷ []); payload = payloads.Nothing } ∷ [];
  aborts = [];
  resets = [];
  faults = [];
}

abbrev pub agreements_of_two_initiators_guard_rows : List Row
agreements_of_two_initiators_guard_rows = drive 1200 7 0x00280 ∷ drive 1200 6 0x00240 ∷ drive 3600 7 0x00680 ∷ drive 3600 6 0x00000 ∷ drive 4800 7 0x10781 ∷ drive 4890 7 0x10581 ∷ drive 5290 0 0x00200 ∷ drive 5380 7 0x10000 ∷ drive 5380 0 0x02a00 ∷ drive 5780 0 0x06a00 ∷ drive 5780 7 0x101c0 ∷ drive 5835 7 0x181c0 ∷ drive 5835 0 0x02a00 ∷ drive 5835 7 0x10000 ∷ drive 5835 0 0x06a00 ∷ drive 5835 7 0x10001 ∷ drive 5890 7 0x18001 ∷ drive 5890 0 0x02a00 ∷ drive 5890 7 0x10000 ∷ drive 5890 0 0x06a00 ∷ drive 5890 7 0x10103 ∷ drive 5945 7 0x18103 ∷ drive 5945 0 0x02a00 ∷ drive 5945 7 0x10000 ∷ drive 5945 0 0x06a00 ∷ drive 5945 7 0x10001 ∷ drive 6000 7 0x18001 ∷ drive 6000 0 0x02a00 ∷ drive 6000 7 0x10000 ∷ drive 6000 0 0x06a00 ∷ drive 6000 7 0x10032 ∷ drive 6055 7 0x18032 ∷ drive 6055 0 0x02a00 ∷ drive 6055 7 0x10000 ∷ drive 6055 0 0x06a00 ∷ drive 6055 7 0x00008 ∷ drive 6145 7 0x08008 ∷ drive 6145 0 0x02a00 ∷ drive 6145 7 0x00000 ∷ drive 6145 0 0x03a00 ∷ drive 6945 0 0x03a01 ∷ drive 7000 0 0x07a01 ∷ drive 7000 7 0x08000 ∷ drive 7000 0 0x03b03 ∷ drive 7000 7 0x00000 ∷ drive 7055 0 0x07b03 ∷ drive 7055 7 0x08000 ∷ drive 7055 0 0x03a01 ∷ drive 7055 7 0x00000 ∷ drive 7110 0 0x07a01 ∷ drive 7110 7 0x08000 ∷ drive 7110 0 0x03a32 ∷ drive 7110 7 0x00000 ∷ drive 7165 0 0x07a32 ∷ drive 7165 7 0x08000 ∷ drive 7165 0 0x03a08 ∷ drive 7165 7 0x00000 ∷ drive 7220 0 0x07a08 ∷ drive 7220 7 0x08000 ∷ drive 7220 0 0x03a00 ∷ drive 7220 7 0x00000 ∷ drive 7220 0 0x00a00 ∷ drive 7620 0 0x04a00 ∷ drive 7620 7 0x00008 ∷ drive 7675 7 0x08008 ∷ drive 7675 0 0x00a00 ∷ drive 7675 7 0x00000 ∷ drive 7675 0 0x04a00 ∷ drive 7675 7 0x00100 ∷ drive 7730 7 0x08100 ∷ drive 7730 0 0x00a00 ∷ drive 7730 7 0x00000 ∷ drive 7730 0 0x04a00 ∷ drive 7730 7 0x00100 ∷ drive 7785 7 0x08100 ∷ drive 7785 0 0x00a00 ∷ drive 7785 7 0x00000 ∷ drive 7785 0 0x04a00 ∷ drive 7785 7 0x00100 ∷ drive 7840 7 0x08100 ∷ drive 7840 0 0x00a00 ∷ drive 7840 7 0x00000 ∷ drive 7840 0 0x04a00 ∷ drive 7840 7 0x00001 ∷ drive 7895 7 0x08001 ∷ drive 7895 0 0x00a00 ∷ drive 7895 7 0x00000 ∷ drive 7895 0 0x04a00 ∷ drive 7895 7 0x00100 ∷ drive 7950 7 0x08100 ∷ drive 7950 0 0x00a00 ∷ drive 7950 7 0x00000 ∷ drive 7950 0 0x01200 ∷ drive 8750 0 0x01300 ∷ drive 8805 0 0x05300 ∷ drive 8805 7 0x08000 ∷ drive 8895 7 0x00000 ∷ drive 8895 0 0x01300 ∷ drive 9005 0 0x05300 ∷ drive 9005 7 0x08000 ∷ drive 9095 7 0x00000 ∷ drive 9095 0 0x01300 ∷ drive 9205 0 0x05300 ∷ drive 9205 7 0x08000 ∷ drive 9295 7 0x00000 ∷ drive 9295 0 0x01300 ∷ drive 9405 0 0x05300 ∷ drive 9405 7 0x08000 ∷ drive 9495 7 0x00000 ∷ drive 9495 0 0x01300 ∷ drive 9605 0 0x05300 ∷ drive 9605 7 0x08000 ∷ drive 9695 7 0x00000 ∷ drive 9695 0 0x01300 ∷ drive 9805 0 0x05300 ∷ drive 9805 7 0x08000 ∷ drive 9895 7 0x00000 ∷ drive 9895 0 0x01300 ∷ drive 10005 0 0x05300 ∷ drive 10005 7 0x08000 ∷ drive 10095 7 0x00000 ∷ drive 10095 0 0x01300 ∷ drive 10205 0 0x05300 ∷ drive 10205 7 0x08000 ∷ drive 10295 7 0x00000 ∷ drive 10295 0 0x01300 ∷ drive 10405 0 0x05300 ∷ drive 10405 7 0x08000 ∷ drive 10495 7 0x00000 ∷ drive 10495 0 0x01300 ∷ drive 10605 0 0x05300 ∷ drive 10605 7 0x08000 ∷ drive 10695 7 0x00000 ∷ drive 10695 0 0x01300 ∷ drive 10805 0 0x05300 ∷ drive 10805 7 0x08000 ∷ drive 10895 7 0x00000 ∷ drive 10895 0 0x01300 ∷ drive 11005 0 0x05300 ∷ drive 11005 7 0x08000 ∷ drive 11095 7 0x00000 ∷ drive 11095 0 0x01300 ∷ drive 11205 0 0x05300 ∷ drive 11205 7 0x08000 ∷ drive 11295 7 0x00000 ∷ drive 11295 0 0x01300 ∷ drive 11405 0 0x05300 ∷ drive 11405 7 0x08000 ∷ drive 11495 7 0x00000 ∷ drive 11495 0 0x01300 ∷ drive 11605 0 0x05300 ∷ drive 11605 7 0x08000 ∷ drive 11695 7 0x00000 ∷ drive 11695 0 0x01300 ∷ drive 11805 0 0x05300 ∷ drive 11805 7 0x08000 ∷ drive 11895 7 0x00000 ∷ drive 11895 0 0x01300 ∷ drive 11905 0 0x01200 ∷ drive 11905 0 0x01b00 ∷ drive 12305 0 0x05b00 ∷ drive 12305 7 0x08000 ∷ drive 12305 0 0x01a00 ∷ drive 12305 7 0x00000 ∷ drive 12305 0 0x03b00 ∷ drive 12705 0 0x07b00 ∷ drive 12705 7 0x08000 ∷ drive 12705 0 0x03a00 ∷ drive 12705 7 0x00000 ∷ drive 12705 0 0x00000 ∷ drive 13905 6 0x00240 ∷ drive 16305 6 0x00640 ∷ drive 17505 6 0x10741 ∷ drive 17595 6 0x10541 ∷ drive 17995 0 0x00200 ∷ drive 18085 6 0x10000 ∷ drive 18085 0 0x02a00 ∷ drive 18485 0 0x06a00 ∷ drive 18485 6 0x101c0 ∷ drive 18540 6 0x181c0 ∷ drive 18540 0 0x02a00 ∷ drive 18540 6 0x10000 ∷ drive 18540 0 0x06a00 ∷ drive 18540 6 0x10001 ∷ drive 18595 6 0x18001 ∷ drive 18595 0 0x02a00 ∷ drive 18595 6 0x10000 ∷ drive 18595 0 0x06a00 ∷ drive 18595 6 0x10103 ∷ drive 18650 6 0x18103 ∷ drive 18650 0 0x02a00 ∷ drive 18650 6 0x10000 ∷ drive 18650 0 0x06a00 ∷ drive 18650 6 0x10001 ∷ drive 18705 6 0x18001 ∷ drive 18705 0 0x02a00 ∷ drive 18705 6 0x10000 ∷ drive 18705 0 0x06a00 ∷ drive 18705 6 0x10064 ∷ drive 18760 6 0x18064 ∷ drive 18760 0 0x02a00 ∷ drive 18760 6 0x10000 ∷ drive 18760 0 0x06a00 ∷ drive 18760 6 0x00002 ∷ drive 18850 6 0x08002 ∷ drive 18850 0 0x02a00 ∷ drive 18850 6 0x00000 ∷ drive 18850 0 0x03a00 ∷ drive 19650 0 0x03a01 ∷ drive 19705 0 0x07a01 ∷ drive 19705 6 0x08000 ∷ drive 19705 0 0x03b03 ∷ drive 19705 6 0x00000 ∷ drive 19760 0 0x07b03 ∷ drive 19760 6 0x08000 ∷ drive 19760 0 0x03a01 ∷ drive 19760 6 0x00000 ∷ drive 19815 0 0x07a01 ∷ drive 19815 6 0x08000 ∷ drive 19815 0 0x03a64 ∷ drive 19815 6 0x00000 ∷ drive 19870 0 0x07a64 ∷ drive 19870 6 0x08000 ∷ drive 19870 0 0x03a02 ∷ drive 19870 6 0x00000 ∷ drive 19925 0 0x07a02 ∷ drive 19925 6 0x08000 ∷ drive 19925 0 0x03a00 ∷ drive 19925 6 0x00000 ∷ drive 19925 0 0x00a00 ∷ drive 20325 0 0x04a00 ∷ drive 20325 6 0x00008 ∷ drive 20380 6 0x08008 ∷ drive 20380 0 0x00a00 ∷ drive 20380 6 0x00000 ∷ drive 20380 0 0x04a00 ∷ drive 20380 6 0x00100 ∷ drive 20435 6 0x08100 ∷ drive 20435 0 0x00a00 ∷ drive 20435 6 0x00000 ∷ drive 20435 0 0x04a00 ∷ drive 20435 6 0x00100 ∷ drive 20490 6 0x08100 ∷ drive 20490 0 0x00a00 ∷ drive 20490 6 0x00000 ∷ drive 20490 0 0x04a00 ∷ drive 20490 6 0x00100 ∷ drive 20545 6 0x08100 ∷ drive 20545 0 0x00a00 ∷ drive 20545 6 0x00000 ∷ drive 20545 0 0x04a00 ∷ drive 20545 6 0x00001 ∷ drive 20600 6 0x08001 ∷ drive 20600 0 0x00a00 ∷ drive 20600 6 0x00000 ∷ drive 20600 0 0x04a00 ∷ drive 20600 6 0x00100 ∷ drive 20655 6 0x08100 ∷ drive 20655 0 0x00a00 ∷ drive 20655 6 0x00000 ∷ drive 20655 0 0x01200 ∷ drive 21455 0 0x01300 ∷ drive 21510 0 0x05300 ∷ drive 21510 6 0x08000 ∷ drive 21600 6 0x00000 ∷ drive 21600 0 0x01300 ∷ drive 21910 0 0x05300 ∷ drive 21910 6 0x08000 ∷ drive 22000 6 0x00000 ∷ drive 22000 0 0x01300 ∷ drive 22310 0 0x05300 ∷ drive 22310 6 0x08000 ∷ drive 22400 6 0x00000 ∷ drive 22400 0 0x01300 ∷ drive 22710 0 0x05300 ∷ drive 22710 6 0x08000 ∷ drive 22800 6 0x00000 ∷ drive 22800 0 0x01300 ∷ drive 23110 0 0x05300 ∷ drive 23110 6 0x08000 ∷ drive 23200 6 0x00000 ∷ drive 23200 0 0x01300 ∷ drive 23510 0 0x05300 ∷ drive 23510 6 0x08000 ∷ drive 23600 6 0x00000 ∷ drive 23600 0 0x01300 ∷ drive 23910 0 0x05300 ∷ drive 23910 6 0x08000 ∷ drive 24000 6 0x00000 ∷ drive 24000 0 0x01300 ∷ drive 24310 0 0x05300 ∷ drive 24310 6 0x08000 ∷ drive 24400 6 0x00000 ∷ drive 24400 0 0x01300 ∷ drive 24710 0 0x05300 ∷ drive 24710 6 0x08000 ∷ drive 24800 6 0x00000 ∷ drive 24800 0 0x01300 ∷ drive 25110 0 0x05300 ∷ drive 25110 6 0x08000 ∷ drive 25200 6 0x00000 ∷ drive 25200 0 0x01300 ∷ drive 25510 0 0x05300 ∷ drive 25510 6 0x08000 ∷ drive 25600 6 0x00000 ∷ drive 25600 0 0x01300 ∷ drive 25910 0 0x05300 ∷ drive 25910 6 0x08000 ∷ drive 26000 6 0x00000 ∷ drive 26000 0 0x01300 ∷ drive 26310 0 0x05300 ∷ drive 26310 6 0x08000 ∷ drive 26400 6 0x00000 ∷ drive 26400 0 0x01300 ∷ drive 26710 0 0x05300 ∷ drive 26710 6 0x08000 ∷ drive 26800 6 0x00000 ∷ drive 26800 0 0x01300 ∷ drive 27110 0 0x05300 ∷ drive 27110 6 0x08000 ∷ drive 27200 6 0x00000 ∷ drive 27200 0 0x01300 ∷ drive 27510 0 0x05300 ∷ drive 27510 6 0x08000 ∷ drive 27600 6 0x00000 ∷ drive 27600 0 0x01300 ∷ drive 27610 0 0x01200 ∷ drive 27610 0 0x01b00 ∷ drive 28010 0 0x05b00 ∷ drive 28010 6 0x08000 ∷ drive 28010 0 0x01a00 ∷ drive 28010 6 0x00000 ∷ drive 28010 0 0x03b00 ∷ drive 28410 0 0x07b00 ∷ drive 28410 6 0x08000 ∷ drive 28410 0 0x03a00 ∷ drive 28410 6 0x00000 ∷ drive 28410 0 0x00000 ∷ drive 30000 7 0x00280 ∷ drive 32400 7 0x00680 ∷ drive 33600 7 0x10781 ∷ drive 33690 7 0x10581 ∷ drive 34090 0 0x00200 ∷ drive 34180 7 0x10000 ∷ drive 34180 0 0x02a00 ∷ drive 34580 0 0x06a00 ∷ drive 34580 7 0x001c0 ∷ drive 34670 7 0x081c0 ∷ drive 34670 0 0x02a00 ∷ drive 34670 7 0x00000 ∷ drive 34670 0 0x00a00 ∷ drive 35070 0 0x04a00 ∷ drive 35070 7 0x00103 ∷ drive 35125 7 0x08103 ∷ drive 35125 0 0x00a00 ∷ drive 35125 7 0x00000 ∷ drive 35125 0 0x04a00 ∷ drive 35125 7 0x00100 ∷ drive 35180 7 0x08100 ∷ drive 35180 0 0x00a00 ∷ drive 35180 7 0x00000 ∷ drive 35180 0 0x04a00 ∷ drive 35180 7 0x00100 ∷ drive 35235 7 0x08100 ∷ drive 35235 0 0x00a00 ∷ drive 35235 7 0x00000 ∷ drive 35235 0 0x04a00 ∷ drive 35235 7 0x00100 ∷ drive 35290 7 0x08100 ∷ drive 35290 0 0x00a00 ∷ drive 35290 7 0x00000 ∷ drive 35290 0 0x04a00 ∷ drive 35290 7 0x00112 ∷ drive 35345 7 0x08112 ∷ drive 35345 0 0x00a00 ∷ drive 35345 7 0x00000 ∷ drive 35345 0 0x04a00 ∷ drive 35345 7 0x00100 ∷ drive 35400 7 0x08100 ∷ drive 35400 0 0x00a00 ∷ drive 35400 7 0x00000 ∷ drive 35400 0 0x01200 ∷ drive 36200 0 0x01270 ∷ drive 36255 0 0x05270 ∷ drive 36255 7 0x08000 ∷ drive 36345 7 0x00000 ∷ drive 36345 0 0x01270 ∷ drive 36355 0 0x01300 ∷ drive 36455 0 0x05300 ∷ drive 36455 7 0x08000 ∷ drive 36545 7 0x00000 ∷ drive 36545 0 0x01300 ∷ drive 36655 0 0x05300 ∷ drive 36655 7 0x08000 ∷ drive 36745 7 0x00000 ∷ drive 36745 0 0x01300 ∷ drive 36855 0 0x05300 ∷ drive 36855 7 0x08000 ∷ drive 36945 7 0x00000 ∷ drive 36945 0 0x01300 ∷ drive 37055 0 0x05300 ∷ drive 37055 7 0x08000 ∷ drive 37145 7 0x00000 ∷ drive 37145 0 0x01300 ∷ drive 37255 0 0x05300 ∷ drive 37255 7 0x08000 ∷ drive 37345 7 0x00000 ∷ drive 37345 0 0x01300 ∷ drive 37455 0 0x05300 ∷ drive 37455 7 0x08000 ∷ drive 37545 7 0x00000 ∷ drive 37545 0 0x01300 ∷ drive 37555 0 0x0130a ∷ drive 37655 0 0x0530a ∷ drive 37655 7 0x08000 ∷ drive 37745 7 0x00000 ∷ drive 37745 0 0x0130a ∷ drive 37755 0 0x01300 ∷ drive 37855 0 0x05300 ∷ drive 37855 7 0x08000 ∷ drive 37945 7 0x00000 ∷ drive 37945 0 0x01300 ∷ drive 38055 0 0x05300 ∷ drive 38055 7 0x08000 ∷ drive 38145 7 0x00000 ∷ drive 38145 0 0x01300 ∷ drive 38255 0 0x05300 ∷ drive 38255 7 0x08000 ∷ drive 38345 7 0x00000 ∷ drive 38345 0 0x01300 ∷ drive 38455 0 0x05300 ∷ drive 38455 7 0x08000 ∷ drive 38545 7 0x00000 ∷ drive 38545 0 0x01300 ∷ drive 38655 0 0x05300 ∷ drive 38655 7 0x08000 ∷ drive 38745 7 0x00000 ∷ drive 38745 0 0x01300 ∷ drive 38855 0 0x05300 ∷ drive 38855 7 0x08000 ∷ drive 38945 7 0x00000 ∷ drive 38945 0 0x01300 ∷ drive 39055 0 0x05300 ∷ drive 39055 7 0x08000 ∷ drive 39145 7 0x00000 ∷ drive 39145 0 0x01300 ∷ drive 39255 0 0x05300 ∷ drive 39255 7 0x08000 ∷ drive 39345 7 0x00000 ∷ drive 39345 0 0x01300 ∷ drive 39455 0 0x05300 ∷ drive 39455 7 0x08000 ∷ drive 39545 7 0x00000 ∷ drive 39545 0 0x01300 ∷ drive 39655 0 0x05300 ∷ drive 39655 7 0x08000 ∷ drive 39745 7 0x00000 ∷ drive 39745 0 0x01300 ∷ drive 39755 0 0x01200 ∷ drive 39755 0 0x01b00 ∷ drive 40155 0 0x05b00 ∷ drive 40155 7 0x08000 ∷ drive 40155 0 0x01a00 ∷ drive 40155 7 0x00000 ∷ drive 40155 0 0x03b00 ∷ drive 40555 0 0x07b00 ∷ drive 40555 7 0x08000 ∷ drive 40555 0 0x03a00 ∷ drive 40555 7 0x00000 ∷ drive 40555 0 0x00000 ∷ []

abbrev agreements_of_two_initiators_guard_events : List Event
agreements_of_two_initiators_guard_events = events.Accept (command 1) ∷ events.Run (command 1) ∷ events.End (command 1) 0 ∷ events.Accept (command 2) ∷ events.Run (command 2) ∷ events.End (command 2) 0 ∷ events.Accept (command 3) ∷ events.Run (command 3) ∷ events.End (command 3) 0 ∷ []

abbrev pub agreements_of_two_initiators_guard_shown : Shows
agreements_of_two_initiators_guard_shown = record { rows = reverse agreements_of_two_initiators_guard_rows; history = reverse agreements_of_two_initiators_guard_events; ended = true }

agreements_of_two_initiators_guard_run : shown (run_by_due agreements_of_two_initiators_guard 471) ≡ agreements_of_two_initiators_guard_shown
unfolding need_of sent_of ones union_below line_of form_out form_in least run_from
agreements_of_two_initiators_guard_run = refl

-- ---- all_leaves_other_senses_guard

abbrev pub all_leaves_other_senses_guard : ScenarioValue
all_leaves_other_senses_guard = record {
  version = 1;
  hosts = record { dev = 7; latency = 0; most = 8; retries = 2; period = 0; offset = 0; lag = 0; offers = true } ∷ record { dev = 6; latency = 0; most = 8; retries = 2; period = 0; offset = 0; lag = 0; offers = true } ∷ [];
  targets = record { dev = 0; latency = 0; retries = 2; disc = policies.Never; pick = picks.First; seek = 0; period = 0; offset = 0; begins = false } ∷ [];
  units = record { target = 0; unit = 0; blocks = 1; size = 16; depth = 4 } ∷ record { target = 0; unit = 1; blocks = 1; size = 16; depth = 4 } ∷ [];
  fills = [];
  tapes = [];
  loads = [];
  commands = record { host = 6; target = 0; unit = 0; at = 0; tag = tags.Untagged; cdb = (8 ∷ 0 ∷ 0 ∷ 1 ∷ 1 ∷ 0 ∷ []); payload = payloads.Nothing } ∷ record { host = 7; target = 0; unit = 1; at = 6000; tag = tags.Untagged; cdb = (8 ∷ 0 ∷ 0 ∷ 1 ∷ 1 ∷ 0 ∷ []); payload = payloads.Nothing } ∷ [];
  aborts = record { host = 7; target = 0; unit = 0; at = 12000; what = aborts.All } ∷ [];
  resets = [];
  faults = [];
}

abbrev pub all_leaves_other_senses_guard_rows : List Row
all_leaves_other_senses_guard_rows = drive 1200 6 0x00240 ∷ drive 3600 6 0x00640 ∷ drive 4800 6 0x10741 ∷ drive 4890 6 0x10541 ∷ drive 5290 0 0x00200 ∷ drive 5380 6 0x10000 ∷ drive 5380 0 0x02a00 ∷ drive 5780 0 0x06a00 ∷ drive 5780 6 0x001c0 ∷ drive 5870 6 0x081c0 ∷ drive 5870 0 0x02a00 ∷ drive 5870 6 0x00000 ∷ drive 5870 0 0x00a00 ∷ drive 6270 0 0x04a00 ∷ drive 6270 6 0x00008 ∷ drive 6325 6 0x08008 ∷ drive 6325 0 0x00a00 ∷ drive 6325 6 0x00000 ∷ drive 6325 0 0x04a00 ∷ drive 6325 6 0x00100 ∷ drive 6380 6 0x08100 ∷ drive 6380 0 0x00a00 ∷ drive 6380 6 0x00000 ∷ drive 6380 0 0x04a00 ∷ drive 6380 6 0x00100 ∷ drive 6435 6 0x08100 ∷ drive 6435 0 0x00a00 ∷ drive 6435 6 0x00000 ∷ drive 6435 0 0x04a00 ∷ drive 6435 6 0x00001 ∷ drive 6490 6 0x08001 ∷ drive 6490 0 0x00a00 ∷ drive 6490 6 0x00000 ∷ drive 6490 0 0x04a00 ∷ drive 6490 6 0x00001 ∷ drive 6545 6 0x08001 ∷ drive 6545 0 0x00a00 ∷ drive 6545 6 0x00000 ∷ drive 6545 0 0x04a00 ∷ drive 6545 6 0x00100 ∷ drive 6600 6 0x08100 ∷ drive 6600 0 0x00a00 ∷ drive 6600 6 0x00000 ∷ drive 6600 0 0x01a00 ∷ drive 7400 0 0x01a02 ∷ drive 7455 0 0x05a02 ∷ drive 7455 6 0x08000 ∷ drive 7455 0 0x01a00 ∷ drive 7455 6 0x00000 ∷ drive 7455 0 0x03b00 ∷ drive 7855 0 0x07b00 ∷ drive 7855 6 0x08000 ∷ drive 7855 0 0x03a00 ∷ drive 7855 6 0x00000 ∷ drive 7855 0 0x00000 ∷ drive 9055 7 0x00280 ∷ drive 9055 6 0x00240 ∷ drive 11455 7 0x00680 ∷ drive 11455 6 0x00000 ∷ drive 12655 7 0x10781 ∷ drive 12745 7 0x10581 ∷ drive 13145 0 0x00200 ∷ drive 13235 7 0x10000 ∷ drive 13235 0 0x02a00 ∷ drive 13635 0 0x06a00 ∷ drive 13635 7 0x000c1 ∷ drive 13725 7 0x080c1 ∷ drive 13725 0 0x02a00 ∷ drive 13725 7 0x00000 ∷ drive 13725 0 0x00a00 ∷ drive 14125 0 0x04a00 ∷ drive 14125 7 0x00008 ∷ drive 14180 7 0x08008 ∷ drive 14180 0 0x00a00 ∷ drive 14180 7 0x00000 ∷ drive 14180 0 0x04a00 ∷ drive 14180 7 0x00100 ∷ drive 14235 7 0x08100 ∷ drive 14235 0 0x00a00 ∷ drive 14235 7 0x00000 ∷ drive 14235 0 0x04a00 ∷ drive 14235 7 0x00100 ∷ drive 14290 7 0x08100 ∷ drive 14290 0 0x00a00 ∷ drive 14290 7 0x00000 ∷ drive 14290 0 0x04a00 ∷ drive 14290 7 0x00001 ∷ drive 14345 7 0x08001 ∷ drive 14345 0 0x00a00 ∷ drive 14345 7 0x00000 ∷ drive 14345 0 0x04a00 ∷ drive 14345 7 0x00001 ∷ drive 14400 7 0x08001 ∷ drive 14400 0 0x00a00 ∷ drive 14400 7 0x00000 ∷ drive 14400 0 0x04a00 ∷ drive 14400 7 0x00100 ∷ drive 14455 7 0x08100 ∷ drive 14455 0 0x00a00 ∷ drive 14455 7 0x00000 ∷ drive 14455 0 0x01a00 ∷ drive 15255 0 0x01a02 ∷ drive 15310 0 0x05a02 ∷ drive 15310 7 0x08000 ∷ drive 15310 0 0x01a00 ∷ drive 15310 7 0x00000 ∷ drive 15310 0 0x03b00 ∷ drive 15710 0 0x07b00 ∷ drive 15710 7 0x08000 ∷ drive 15710 0 0x03a00 ∷ drive 15710 7 0x00000 ∷ drive 15710 0 0x00000 ∷ drive 16910 7 0x00280 ∷ drive 16910 6 0x00240 ∷ drive 19310 7 0x00680 ∷ drive 19310 6 0x00000 ∷ drive 20510 7 0x10781 ∷ drive 20600 7 0x10581 ∷ drive 21000 0 0x00200 ∷ drive 21090 7 0x10000 ∷ drive 21090 0 0x02a00 ∷ drive 21490 0 0x06a00 ∷ drive 21490 7 0x10080 ∷ drive 21545 7 0x18080 ∷ drive 21545 0 0x02a00 ∷ drive 21545 7 0x10000 ∷ drive 21545 0 0x06a00 ∷ drive 21545 7 0x00106 ∷ drive 21635 7 0x08106 ∷ drive 21635 0 0x02a00 ∷ drive 21635 7 0x00000 ∷ drive 21635 0 0x00000 ∷ drive 22835 7 0x00280 ∷ drive 22835 6 0x00240 ∷ drive 25235 7 0x00680 ∷ drive 25235 6 0x00000 ∷ drive 26435 7 0x10781 ∷ drive 26525 7 0x10581 ∷ drive 26925 0 0x00200 ∷ drive 27015 7 0x10000 ∷ drive 27015 0 0x02a00 ∷ drive 27415 0 0x06a00 ∷ drive 27415 7 0x00181 ∷ drive 27505 7 0x08181 ∷ drive 27505 0 0x02a00 ∷ drive 27505 7 0x00000 ∷ drive 27505 0 0x00a00 ∷ drive 27905 0 0x04a00 ∷ drive 27905 7 0x00103 ∷ drive 27960 7 0x08103 ∷ drive 27960 0 0x00a00 ∷ drive 27960 7 0x00000 ∷ drive 27960 0 0x04a00 ∷ drive 27960 7 0x00100 ∷ drive 28015 7 0x08100 ∷ drive 28015 0 0x00a00 ∷ drive 28015 7 0x00000 ∷ drive 28015 0 0x04a00 ∷ drive 28015 7 0x00100 ∷ drive 28070 7 0x08100 ∷ drive 28070 0 0x00a00 ∷ drive 28070 7 0x00000 ∷ drive 28070 0 0x04a00 ∷ drive 28070 7 0x00100 ∷ drive 28125 7 0x08100 ∷ drive 28125 0 0x00a00 ∷ drive 28125 7 0x00000 ∷ drive 28125 0 0x04a00 ∷ drive 28125 7 0x00112 ∷ drive 28180 7 0x08112 ∷ drive 28180 0 0x00a00 ∷ drive 28180 7 0x00000 ∷ drive 28180 0 0x04a00 ∷ drive 28180 7 0x00100 ∷ drive 28235 7 0x08100 ∷ drive 28235 0 0x00a00 ∷ drive 28235 7 0x00000 ∷ drive 28235 0 0x01200 ∷ drive 29035 0 0x01270 ∷ drive 29090 0 0x05270 ∷ drive 29090 7 0x08000 ∷ drive 29090 0 0x01300 ∷ drive 29090 7 0x00000 ∷ drive 29145 0 0x05300 ∷ drive 29145 7 0x08000 ∷ drive 29145 0 0x01305 ∷ drive 29145 7 0x00000 ∷ drive 29200 0 0x05305 ∷ drive 29200 7 0x08000 ∷ drive 29200 0 0x01300 ∷ drive 29200 7 0x00000 ∷ drive 29255 0 0x05300 ∷ drive 29255 7 0x08000 ∷ drive 29255 0 0x01300 ∷ drive 29255 7 0x00000 ∷ drive 29310 0 0x05300 ∷ drive 29310 7 0x08000 ∷ drive 29310 0 0x01300 ∷ drive 29310 7 0x00000 ∷ drive 29365 0 0x05300 ∷ drive 29365 7 0x08000 ∷ drive 29365 0 0x01300 ∷ drive 29365 7 0x00000 ∷ drive 29420 0 0x05300 ∷ drive 29420 7 0x08000 ∷ drive 29420 0 0x0130a ∷ drive 29420 7 0x00000 ∷ drive 29475 0 0x0530a ∷ drive 29475 7 0x08000 ∷ drive 29475 0 0x01300 ∷ drive 29475 7 0x00000 ∷ drive 29530 0 0x05300 ∷ drive 29530 7 0x08000 ∷ drive 29530 0 0x01300 ∷ drive 29530 7 0x00000 ∷ drive 29585 0 0x05300 ∷ drive 29585 7 0x08000 ∷ drive 29585 0 0x01300 ∷ drive 29585 7 0x00000 ∷ drive 29640 0 0x05300 ∷ drive 29640 7 0x08000 ∷ drive 29640 0 0x01300 ∷ drive 29640 7 0x00000 ∷ drive 29695 0 0x05300 ∷ drive 29695 7 0x08000 ∷ drive 29695 0 0x01321 ∷ drive 29695 7 0x00000 ∷ drive 29750 0 0x05321 ∷ drive 29750 7 0x08000 ∷ drive 29750 0 0x01300 ∷ drive 29750 7 0x00000 ∷ drive 29805 0 0x05300 ∷ drive 29805 7 0x08000 ∷ drive 29805 0 0x01300 ∷ drive 29805 7 0x00000 ∷ drive 29860 0 0x05300 ∷ drive 29860 7 0x08000 ∷ drive 29860 0 0x01300 ∷ drive 29860 7 0x00000 ∷ drive 29915 0 0x05300 ∷ drive 29915 7 0x08000 ∷ drive 29915 0 0x01300 ∷ drive 29915 7 0x00000 ∷ drive 29970 0 0x05300 ∷ drive 29970 7 0x08000 ∷ drive 29970 0 0x01300 ∷ drive 29970 7 0x00000 ∷ drive 30025 0 0x05300 ∷ drive 30025 7 0x08000 ∷ drive 30025 0 0x01200 ∷ drive 30025 7 0x00000 ∷ drive 30025 0 0x01b00 ∷ drive 30425 0 0x05b00 ∷ drive 30425 7 0x08000 ∷ drive 30425 0 0x01a00 ∷ drive 30425 7 0x00000 ∷ drive 30425 0 0x03b00 ∷ drive 30825 0 0x07b00 ∷ drive 30825 7 0x08000 ∷ drive 30825 0 0x03a00 ∷ drive 30825 7 0x00000 ∷ drive 30825 0 0x00000 ∷ drive 32025 6 0x00240 ∷ drive 34425 6 0x00640 ∷ drive 35625 6 0x10741 ∷ drive 35715 6 0x10541 ∷ drive 36115 0 0x00200 ∷ drive 36205 6 0x10000 ∷ drive 36205 0 0x02a00 ∷ drive 36605 0 0x06a00 ∷ drive 36605 6 0x00080 ∷ drive 36695 6 0x08080 ∷ drive 36695 0 0x02a00 ∷ drive 36695 6 0x00000 ∷ drive 36695 0 0x00a00 ∷ drive 37095 0 0x04a00 ∷ drive 37095 6 0x00103 ∷ drive 37150 6 0x08103 ∷ drive 37150 0 0x00a00 ∷ drive 37150 6 0x00000 ∷ drive 37150 0 0x04a00 ∷ drive 37150 6 0x00100 ∷ drive 37205 6 0x08100 ∷ drive 37205 0 0x00a00 ∷ drive 37205 6 0x00000 ∷ drive 37205 0 0x04a00 ∷ drive 37205 6 0x00100 ∷ drive 37260 6 0x08100 ∷ drive 37260 0 0x00a00 ∷ drive 37260 6 0x00000 ∷ drive 37260 0 0x04a00 ∷ drive 37260 6 0x00100 ∷ drive 37315 6 0x08100 ∷ drive 37315 0 0x00a00 ∷ drive 37315 6 0x00000 ∷ drive 37315 0 0x04a00 ∷ drive 37315 6 0x00112 ∷ drive 37370 6 0x08112 ∷ drive 37370 0 0x00a00 ∷ drive 37370 6 0x00000 ∷ drive 37370 0 0x04a00 ∷ drive 37370 6 0x00100 ∷ drive 37425 6 0x08100 ∷ drive 37425 0 0x00a00 ∷ drive 37425 6 0x00000 ∷ drive 37425 0 0x01200 ∷ drive 38225 0 0x01270 ∷ drive 38280 0 0x05270 ∷ drive 38280 6 0x08000 ∷ drive 38280 0 0x01300 ∷ drive 38280 6 0x00000 ∷ drive 38335 0 0x05300 ∷ drive 38335 6 0x08000 ∷ drive 38335 0 0x01305 ∷ drive 38335 6 0x00000 ∷ drive 38390 0 0x05305 ∷ drive 38390 6 0x08000 ∷ drive 38390 0 0x01300 ∷ drive 38390 6 0x00000 ∷ drive 38445 0 0x05300 ∷ drive 38445 6 0x08000 ∷ drive 38445 0 0x01300 ∷ drive 38445 6 0x00000 ∷ drive 38500 0 0x05300 ∷ drive 38500 6 0x08000 ∷ drive 38500 0 0x01300 ∷ drive 38500 6 0x00000 ∷ drive 38555 0 0x05300 ∷ drive 38555 6 0x08000 ∷ drive 38555 0 0x01300 ∷ drive 38555 6 0x00000 ∷ drive 38610 0 0x05300 ∷ drive 38610 6 0x08000 ∷ drive 38610 0 0x0130a ∷ drive 38610 6 0x00000 ∷ drive 38665 0 0x0530a ∷ drive 38665 6 0x08000 ∷ drive 38665 0 0x01300 ∷ drive 38665 6 0x00000 ∷ drive 38720 0 0x05300 ∷ drive 38720 6 0x08000 ∷ drive 38720 0 0x01300 ∷ drive 38720 6 0x00000 ∷ drive 38775 0 0x05300 ∷ drive 38775 6 0x08000 ∷ drive 38775 0 0x01300 ∷ drive 38775 6 0x00000 ∷ drive 38830 0 0x05300 ∷ drive 38830 6 0x08000 ∷ drive 38830 0 0x01300 ∷ drive 38830 6 0x00000 ∷ drive 38885 0 0x05300 ∷ drive 38885 6 0x08000 ∷ drive 38885 0 0x01321 ∷ drive 38885 6 0x00000 ∷ drive 38940 0 0x05321 ∷ drive 38940 6 0x08000 ∷ drive 38940 0 0x01300 ∷ drive 38940 6 0x00000 ∷ drive 38995 0 0x05300 ∷ drive 38995 6 0x08000 ∷ drive 38995 0 0x01300 ∷ drive 38995 6 0x00000 ∷ drive 39050 0 0x05300 ∷ drive 39050 6 0x08000 ∷ drive 39050 0 0x01300 ∷ drive 39050 6 0x00000 ∷ drive 39105 0 0x05300 ∷ drive 39105 6 0x08000 ∷ drive 39105 0 0x01300 ∷ drive 39105 6 0x00000 ∷ drive 39160 0 0x05300 ∷ drive 39160 6 0x08000 ∷ drive 39160 0 0x01300 ∷ drive 39160 6 0x00000 ∷ drive 39215 0 0x05300 ∷ drive 39215 6 0x08000 ∷ drive 39215 0 0x01200 ∷ drive 39215 6 0x00000 ∷ drive 39215 0 0x01b00 ∷ drive 39615 0 0x05b00 ∷ drive 39615 6 0x08000 ∷ drive 39615 0 0x01a00 ∷ drive 39615 6 0x00000 ∷ drive 39615 0 0x03b00 ∷ drive 40015 0 0x07b00 ∷ drive 40015 6 0x08000 ∷ drive 40015 0 0x03a00 ∷ drive 40015 6 0x00000 ∷ drive 40015 0 0x00000 ∷ []

abbrev all_leaves_other_senses_guard_events : List Event
all_leaves_other_senses_guard_events = events.Accept (command 1) ∷ events.Run (command 1) ∷ events.End (command 1) 2 ∷ events.Accept (command 2) ∷ events.Run (command 2) ∷ events.End (command 2) 2 ∷ events.Aborted 7 0 0 aborts.All ∷ events.Accept (sense 2) ∷ events.Run (sense 2) ∷ events.End (sense 2) 0 ∷ events.Accept (sense 1) ∷ events.Run (sense 1) ∷ events.End (sense 1) 0 ∷ []

abbrev pub all_leaves_other_senses_guard_shown : Shows
all_leaves_other_senses_guard_shown = record { rows = reverse all_leaves_other_senses_guard_rows; history = reverse all_leaves_other_senses_guard_events; ended = true }

all_leaves_other_senses_guard_run : shown (run_by_due all_leaves_other_senses_guard 391) ≡ all_leaves_other_senses_guard_shown
unfolding need_of sent_of ones union_below line_of form_out form_in least run_from
all_leaves_other_senses_guard_run = refl

-- ---- all_of_one_initiator_at_one_unit_guard

abbrev pub all_of_one_initiator_at_one_unit_guard : ScenarioValue
all_of_one_initiator_at_one_unit_guard = record {
  version = 1;
  hosts = record { dev = 7; latency = 0; most = 8; retries = 2; period = 0; offset = 0; lag = 0; offers = true } ∷ record { dev = 6; latency = 0; most = 8; retries = 2; period = 0; offset = 0; lag = 0; offers = true } ∷ [];
  targets = record { dev = 0; latency = 0; retries = 2; disc = policies.Command; pick = picks.First; seek = 60000; period = 0; offset = 0; begins = false } ∷ [];
  units = record { target = 0; unit = 0; blocks = 1; size = 16; depth = 4 } ∷ record { target = 0; unit = 1; blocks = 1; size = 16; depth = 4 } ∷ [];
  fills = [];
  tapes = [];
  loads = [];
  commands = record { host = 7; target = 0; unit = 0; at = 0; tag = tags.Simple 1; cdb = (0 ∷ 0 ∷ 0 ∷ 0 ∷ 0 ∷ 0 ∷ []); payload = payloads.Nothing } ∷ record { host = 6; target = 0; unit = 0; at = 0; tag = tags.Simple 1; cdb = (0 ∷ 0 ∷ 0 ∷ 0 ∷ 0 ∷ 0 ∷ []); payload = payloads.Nothing } ∷ record { host = 7; target = 0; unit = 1; at = 0; tag = tags.Simple 1; cdb = (0 ∷ 0 ∷ 0 ∷ 0 ∷ 0 ∷ 0 ∷ []); payload = payloads.Nothing } ∷ [];
  aborts = record { host = 7; target = 0; unit = 0; at = 20000; what = aborts.All } ∷ [];
  resets = [];
  faults = [];
}

abbrev pub all_of_one_initiator_at_one_unit_guard_rows : List Row
all_of_one_initiator_at_one_unit_guard_rows = drive 1200 7 0x00280 ∷ drive 1200 6 0x00240 ∷ drive 3600 7 0x00680 ∷ drive 3600 6 0x00000 ∷ drive 4800 7 0x10781 ∷ drive 4890 7 0x10581 ∷ drive 5290 0 0x00200 ∷ drive 5380 7 0x10000 ∷ drive 5380 0 0x02a00 ∷ drive 5780 0 0x06a00 ∷ drive 5780 7 0x101c0 ∷ drive 5835 7 0x181c0 ∷ drive 5835 0 0x02a00 ∷ drive 5835 7 0x10000 ∷ drive 5835 0 0x06a00 ∷ drive 5835 7 0x10020 ∷ drive 5890 7 0x18020 ∷ drive 5890 0 0x02a00 ∷ drive 5890 7 0x10000 ∷ drive 5890 0 0x06a00 ∷ drive 5890 7 0x00001 ∷ drive 5980 7 0x08001 ∷ drive 5980 0 0x02a00 ∷ drive 5980 7 0x00000 ∷ drive 5980 0 0x00a00 ∷ drive 6380 0 0x04a00 ∷ drive 6380 7 0x00100 ∷ drive 6435 7 0x08100 ∷ drive 6435 0 0x00a00 ∷ drive 6435 7 0x00000 ∷ drive 6435 0 0x04a00 ∷ drive 6435 7 0x00100 ∷ drive 6490 7 0x08100 ∷ drive 6490 0 0x00a00 ∷ drive 6490 7 0x00000 ∷ drive 6490 0 0x04a00 ∷ drive 6490 7 0x00100 ∷ drive 6545 7 0x08100 ∷ drive 6545 0 0x00a00 ∷ drive 6545 7 0x00000 ∷ drive 6545 0 0x04a00 ∷ drive 6545 7 0x00100 ∷ drive 6600 7 0x08100 ∷ drive 6600 0 0x00a00 ∷ drive 6600 7 0x00000 ∷ drive 6600 0 0x04a00 ∷ drive 6600 7 0x00100 ∷ drive 6655 7 0x08100 ∷ drive 6655 0 0x00a00 ∷ drive 6655 7 0x00000 ∷ drive 6655 0 0x04a00 ∷ drive 6655 7 0x00100 ∷ drive 6710 7 0x08100 ∷ drive 6710 0 0x00a00 ∷ drive 6710 7 0x00000 ∷ drive 6710 0 0x03a00 ∷ drive 7510 0 0x03a04 ∷ drive 7565 0 0x07a04 ∷ drive 7565 7 0x08000 ∷ drive 7565 0 0x03a00 ∷ drive 7565 7 0x00000 ∷ drive 7565 0 0x00000 ∷ drive 8765 7 0x00280 ∷ drive 8765 6 0x00240 ∷ drive 11165 7 0x00680 ∷ drive 11165 6 0x00000 ∷ drive 12365 7 0x10781 ∷ drive 12455 7 0x10581 ∷ drive 12855 0 0x00200 ∷ drive 12945 7 0x10000 ∷ drive 12945 0 0x02a00 ∷ drive 13345 0 0x06a00 ∷ drive 13345 7 0x100c1 ∷ drive 13400 7 0x180c1 ∷ drive 13400 0 0x02a00 ∷ drive 13400 7 0x10000 ∷ drive 13400 0 0x06a00 ∷ drive 13400 7 0x10020 ∷ drive 13455 7 0x18020 ∷ drive 13455 0 0x02a00 ∷ drive 13455 7 0x10000 ∷ drive 13455 0 0x06a00 ∷ drive 13455 7 0x00001 ∷ drive 13545 7 0x08001 ∷ drive 13545 0 0x02a00 ∷ drive 13545 7 0x00000 ∷ drive 13545 0 0x00a00 ∷ drive 13945 0 0x04a00 ∷ drive 13945 7 0x00100 ∷ drive 14000 7 0x08100 ∷ drive 14000 0 0x00a00 ∷ drive 14000 7 0x00000 ∷ drive 14000 0 0x04a00 ∷ drive 14000 7 0x00100 ∷ drive 14055 7 0x08100 ∷ drive 14055 0 0x00a00 ∷ drive 14055 7 0x00000 ∷ drive 14055 0 0x04a00 ∷ drive 14055 7 0x00100 ∷ drive 14110 7 0x08100 ∷ drive 14110 0 0x00a00 ∷ drive 14110 7 0x00000 ∷ drive 14110 0 0x04a00 ∷ drive 14110 7 0x00100 ∷ drive 14165 7 0x08100 ∷ drive 14165 0 0x00a00 ∷ drive 14165 7 0x00000 ∷ drive 14165 0 0x04a00 ∷ drive 14165 7 0x00100 ∷ drive 14220 7 0x08100 ∷ drive 14220 0 0x00a00 ∷ drive 14220 7 0x00000 ∷ drive 14220 0 0x04a00 ∷ drive 14220 7 0x00100 ∷ drive 14275 7 0x08100 ∷ drive 14275 0 0x00a00 ∷ drive 14275 7 0x00000 ∷ drive 14275 0 0x03a00 ∷ drive 15075 0 0x03a04 ∷ drive 15130 0 0x07a04 ∷ drive 15130 7 0x08000 ∷ drive 15130 0 0x03a00 ∷ drive 15130 7 0x00000 ∷ drive 15130 0 0x00000 ∷ drive 16330 6 0x00240 ∷ drive 18730 6 0x00640 ∷ drive 19930 6 0x10741 ∷ drive 20020 6 0x10541 ∷ drive 20420 0 0x00200 ∷ drive 20510 6 0x10000 ∷ drive 20510 0 0x02a00 ∷ drive 20910 0 0x06a00 ∷ drive 20910 6 0x101c0 ∷ drive 20965 6 0x181c0 ∷ drive 20965 0 0x02a00 ∷ drive 20965 6 0x10000 ∷ drive 20965 0 0x06a00 ∷ drive 20965 6 0x10020 ∷ drive 21020 6 0x18020 ∷ drive 21020 0 0x02a00 ∷ drive 21020 6 0x10000 ∷ drive 21020 0 0x06a00 ∷ drive 21020 6 0x00001 ∷ drive 21110 6 0x08001 ∷ drive 21110 0 0x02a00 ∷ drive 21110 6 0x00000 ∷ drive 21110 0 0x00a00 ∷ drive 21510 0 0x04a00 ∷ drive 21510 6 0x00100 ∷ drive 21565 6 0x08100 ∷ drive 21565 0 0x00a00 ∷ drive 21565 6 0x00000 ∷ drive 21565 0 0x04a00 ∷ drive 21565 6 0x00100 ∷ drive 21620 6 0x08100 ∷ drive 21620 0 0x00a00 ∷ drive 21620 6 0x00000 ∷ drive 21620 0 0x04a00 ∷ drive 21620 6 0x00100 ∷ drive 21675 6 0x08100 ∷ drive 21675 0 0x00a00 ∷ drive 21675 6 0x00000 ∷ drive 21675 0 0x04a00 ∷ drive 21675 6 0x00100 ∷ drive 21730 6 0x08100 ∷ drive 21730 0 0x00a00 ∷ drive 21730 6 0x00000 ∷ drive 21730 0 0x04a00 ∷ drive 21730 6 0x00100 ∷ drive 21785 6 0x08100 ∷ drive 21785 0 0x00a00 ∷ drive 21785 6 0x00000 ∷ drive 21785 0 0x04a00 ∷ drive 21785 6 0x00100 ∷ drive 21840 6 0x08100 ∷ drive 21840 0 0x00a00 ∷ drive 21840 6 0x00000 ∷ drive 21840 0 0x03a00 ∷ drive 22640 0 0x03a04 ∷ drive 22695 0 0x07a04 ∷ drive 22695 6 0x08000 ∷ drive 22695 0 0x03a00 ∷ drive 22695 6 0x00000 ∷ drive 22695 0 0x00000 ∷ drive 23895 7 0x00280 ∷ drive 26295 7 0x00680 ∷ drive 27495 7 0x10781 ∷ drive 27585 7 0x10581 ∷ drive 27985 0 0x00200 ∷ drive 28075 7 0x10000 ∷ drive 28075 0 0x02a00 ∷ drive 28475 0 0x06a00 ∷ drive 28475 7 0x10080 ∷ drive 28530 7 0x18080 ∷ drive 28530 0 0x02a00 ∷ drive 28530 7 0x10000 ∷ drive 28530 0 0x06a00 ∷ drive 28530 7 0x00106 ∷ drive 28620 7 0x08106 ∷ drive 28620 0 0x02a00 ∷ drive 28620 7 0x00000 ∷ drive 28620 0 0x00000 ∷ drive 74275 0 0x00201 ∷ drive 76675 0 0x00601 ∷ drive 77875 0 0x01781 ∷ drive 77965 0 0x01581 ∷ drive 78365 7 0x00200 ∷ drive 78365 0 0x01781 ∷ drive 78455 0 0x03b81 ∷ drive 78455 7 0x00000 ∷ drive 78855 0 0x07b81 ∷ drive 78855 7 0x08000 ∷ drive 78855 0 0x03a20 ∷ drive 78855 7 0x00000 ∷ drive 78910 0 0x07a20 ∷ drive 78910 7 0x08000 ∷ drive 78910 0 0x03a01 ∷ drive 78910 7 0x00000 ∷ drive 78965 0 0x07a01 ∷ drive 78965 7 0x08000 ∷ drive 78965 0 0x03a00 ∷ drive 78965 7 0x00000 ∷ drive 78965 0 0x01b00 ∷ drive 79365 0 0x05b00 ∷ drive 79365 7 0x08000 ∷ drive 79365 0 0x01a00 ∷ drive 79365 7 0x00000 ∷ drive 79365 0 0x03b00 ∷ drive 79765 0 0x07b00 ∷ drive 79765 7 0x08000 ∷ drive 79765 0 0x03a00 ∷ drive 79765 7 0x00000 ∷ drive 79765 0 0x00000 ∷ drive 88620 0 0x00201 ∷ drive 91020 0 0x00601 ∷ drive 92220 0 0x01741 ∷ drive 92310 0 0x01541 ∷ drive 92710 6 0x00200 ∷ drive 92710 0 0x01741 ∷ drive 92800 0 0x03a80 ∷ drive 92800 6 0x00000 ∷ drive 93200 0 0x07a80 ∷ drive 93200 6 0x08000 ∷ drive 93200 0 0x03a20 ∷ drive 93200 6 0x00000 ∷ drive 93255 0 0x07a20 ∷ drive 93255 6 0x08000 ∷ drive 93255 0 0x03a01 ∷ drive 93255 6 0x00000 ∷ drive 93310 0 0x07a01 ∷ drive 93310 6 0x08000 ∷ drive 93310 0 0x03a00 ∷ drive 93310 6 0x00000 ∷ drive 93310 0 0x01b00 ∷ drive 93710 0 0x05b00 ∷ drive 93710 6 0x08000 ∷ drive 93710 0 0x01a00 ∷ drive 93710 6 0x00000 ∷ drive 93710 0 0x03b00 ∷ drive 94110 0 0x07b00 ∷ drive 94110 6 0x08000 ∷ drive 94110 0 0x03a00 ∷ drive 94110 6 0x00000 ∷ drive 94110 0 0x00000 ∷ []

abbrev all_of_one_initiator_at_one_unit_guard_events : List Event
all_of_one_initiator_at_one_unit_guard_events = events.Accept (command 1) ∷ events.Accept (command 3) ∷ events.Accept (command 2) ∷ events.Aborted 7 0 0 aborts.All ∷ events.Run (command 3) ∷ events.End (command 3) 0 ∷ events.Run (command 2) ∷ events.End (command 2) 0 ∷ []

abbrev pub all_of_one_initiator_at_one_unit_guard_shown : Shows
all_of_one_initiator_at_one_unit_guard_shown = record { rows = reverse all_of_one_initiator_at_one_unit_guard_rows; history = reverse all_of_one_initiator_at_one_unit_guard_events; ended = true }

all_of_one_initiator_at_one_unit_guard_run : shown (run_by_due all_of_one_initiator_at_one_unit_guard 265) ≡ all_of_one_initiator_at_one_unit_guard_shown
unfolding need_of sent_of ones union_below line_of form_out form_in least run_from
all_of_one_initiator_at_one_unit_guard_run = refl

-- ---- calling_in_vain_leaves_the_offer_guard

abbrev pub calling_in_vain_leaves_the_offer_guard : ScenarioValue
calling_in_vain_leaves_the_offer_guard = record {
  version = 1;
  hosts = record { dev = 7; latency = 0; most = 4; retries = 2; period = 50; offset = 8; lag = 0; offers = true } ∷ [];
  targets = record { dev = 0; latency = 0; retries = 2; disc = policies.Never; pick = picks.First; seek = 0; period = 50; offset = 8; begins = false } ∷ [];
  units = record { target = 0; unit = 0; blocks = 1; size = 16; depth = 4 } ∷ [];
  fills = [];
  tapes = [];
  loads = [];
  commands = record { host = 7; target = 0; unit = 0; at = 0; tag = tags.Untagged; cdb = (8 ∷ 0 ∷ 0 ∷ 0 ∷ 1 ∷ 0 ∷ []); payload = payloads.Nothing } ∷ [];
  aborts = [];
  resets = [];
  faults = record { at = 5290; bit = 0 } ∷ [];
}

abbrev pub calling_in_vain_leaves_the_offer_guard_rows : List Row
calling_in_vain_leaves_the_offer_guard_rows = drive 1200 7 0x00280 ∷ drive 3600 7 0x00680 ∷ drive 4800 7 0x10781 ∷ drive 4890 7 0x10581 ∷ strike 5290 0 0 ∷ drive 250004890 7 0x10400 ∷ drive 250204980 7 0x00000 ∷ drive 250206180 7 0x00280 ∷ drive 250208580 7 0x00680 ∷ drive 250209780 7 0x10781 ∷ drive 250209870 7 0x10581 ∷ drive 250210270 0 0x00200 ∷ drive 250210360 7 0x10000 ∷ drive 250210360 0 0x02a00 ∷ drive 250210760 0 0x06a00 ∷ drive 250210760 7 0x101c0 ∷ drive 250210815 7 0x181c0 ∷ drive 250210815 0 0x02a00 ∷ drive 250210815 7 0x10000 ∷ drive 250210815 0 0x06a00 ∷ drive 250210815 7 0x10001 ∷ drive 250210870 7 0x18001 ∷ drive 250210870 0 0x02a00 ∷ drive 250210870 7 0x10000 ∷ drive 250210870 0 0x06a00 ∷ drive 250210870 7 0x10103 ∷ drive 250210925 7 0x18103 ∷ drive 250210925 0 0x02a00 ∷ drive 250210925 7 0x10000 ∷ drive 250210925 0 0x06a00 ∷ drive 250210925 7 0x10001 ∷ drive 250210980 7 0x18001 ∷ drive 250210980 0 0x02a00 ∷ drive 250210980 7 0x10000 ∷ drive 250210980 0 0x06a00 ∷ drive 250210980 7 0x10032 ∷ drive 250211035 7 0x18032 ∷ drive 250211035 0 0x02a00 ∷ drive 250211035 7 0x10000 ∷ drive 250211035 0 0x06a00 ∷ drive 250211035 7 0x00008 ∷ drive 250211125 7 0x08008 ∷ drive 250211125 0 0x02a00 ∷ drive 250211125 7 0x00000 ∷ drive 250211125 0 0x03a00 ∷ drive 250211925 0 0x03a01 ∷ drive 250211980 0 0x07a01 ∷ drive 250211980 7 0x08000 ∷ drive 250211980 0 0x03b03 ∷ drive 250211980 7 0x00000 ∷ drive 250212035 0 0x07b03 ∷ drive 250212035 7 0x08000 ∷ drive 250212035 0 0x03a01 ∷ drive 250212035 7 0x00000 ∷ drive 250212090 0 0x07a01 ∷ drive 250212090 7 0x08000 ∷ drive 250212090 0 0x03a32 ∷ drive 250212090 7 0x00000 ∷ drive 250212145 0 0x07a32 ∷ drive 250212145 7 0x08000 ∷ drive 250212145 0 0x03a08 ∷ drive 250212145 7 0x00000 ∷ drive 250212200 0 0x07a08 ∷ drive 250212200 7 0x08000 ∷ drive 250212200 0 0x03a00 ∷ drive 250212200 7 0x00000 ∷ drive 250212200 0 0x00a00 ∷ drive 250212600 0 0x04a00 ∷ drive 250212600 7 0x00008 ∷ drive 250212655 7 0x08008 ∷ drive 250212655 0 0x00a00 ∷ drive 250212655 7 0x00000 ∷ drive 250212655 0 0x04a00 ∷ drive 250212655 7 0x00100 ∷ drive 250212710 7 0x08100 ∷ drive 250212710 0 0x00a00 ∷ drive 250212710 7 0x00000 ∷ drive 250212710 0 0x04a00 ∷ drive 250212710 7 0x00100 ∷ drive 250212765 7 0x08100 ∷ drive 250212765 0 0x00a00 ∷ drive 250212765 7 0x00000 ∷ drive 250212765 0 0x04a00 ∷ drive 250212765 7 0x00100 ∷ drive 250212820 7 0x08100 ∷ drive 250212820 0 0x00a00 ∷ drive 250212820 7 0x00000 ∷ drive 250212820 0 0x04a00 ∷ drive 250212820 7 0x00001 ∷ drive 250212875 7 0x08001 ∷ drive 250212875 0 0x00a00 ∷ drive 250212875 7 0x00000 ∷ drive 250212875 0 0x04a00 ∷ drive 250212875 7 0x00100 ∷ drive 250212930 7 0x08100 ∷ drive 250212930 0 0x00a00 ∷ drive 250212930 7 0x00000 ∷ drive 250212930 0 0x01200 ∷ drive 250213730 0 0x01300 ∷ drive 250213785 0 0x05300 ∷ drive 250213785 7 0x08000 ∷ drive 250213875 7 0x00000 ∷ drive 250213875 0 0x01300 ∷ drive 250213985 0 0x05300 ∷ drive 250213985 7 0x08000 ∷ drive 250214075 7 0x00000 ∷ drive 250214075 0 0x01300 ∷ drive 250214185 0 0x05300 ∷ drive 250214185 7 0x08000 ∷ drive 250214275 7 0x00000 ∷ drive 250214275 0 0x01300 ∷ drive 250214385 0 0x05300 ∷ drive 250214385 7 0x08000 ∷ drive 250214475 7 0x00000 ∷ drive 250214475 0 0x01300 ∷ drive 250214585 0 0x05300 ∷ drive 250214585 7 0x08000 ∷ drive 250214675 7 0x00000 ∷ drive 250214675 0 0x01300 ∷ drive 250214785 0 0x05300 ∷ drive 250214785 7 0x08000 ∷ drive 250214875 7 0x00000 ∷ drive 250214875 0 0x01300 ∷ drive 250214985 0 0x05300 ∷ drive 250214985 7 0x08000 ∷ drive 250215075 7 0x00000 ∷ drive 250215075 0 0x01300 ∷ drive 250215185 0 0x05300 ∷ drive 250215185 7 0x08000 ∷ drive 250215275 7 0x00000 ∷ drive 250215275 0 0x01300 ∷ drive 250215385 0 0x05300 ∷ drive 250215385 7 0x08000 ∷ drive 250215475 7 0x00000 ∷ drive 250215475 0 0x01300 ∷ drive 250215585 0 0x05300 ∷ drive 250215585 7 0x08000 ∷ drive 250215675 7 0x00000 ∷ drive 250215675 0 0x01300 ∷ drive 250215785 0 0x05300 ∷ drive 250215785 7 0x08000 ∷ drive 250215875 7 0x00000 ∷ drive 250215875 0 0x01300 ∷ drive 250215985 0 0x05300 ∷ drive 250215985 7 0x08000 ∷ drive 250216075 7 0x00000 ∷ drive 250216075 0 0x01300 ∷ drive 250216185 0 0x05300 ∷ drive 250216185 7 0x08000 ∷ drive 250216275 7 0x00000 ∷ drive 250216275 0 0x01300 ∷ drive 250216385 0 0x05300 ∷ drive 250216385 7 0x08000 ∷ drive 250216475 7 0x00000 ∷ drive 250216475 0 0x01300 ∷ drive 250216585 0 0x05300 ∷ drive 250216585 7 0x08000 ∷ drive 250216675 7 0x00000 ∷ drive 250216675 0 0x01300 ∷ drive 250216785 0 0x05300 ∷ drive 250216785 7 0x08000 ∷ drive 250216875 7 0x00000 ∷ drive 250216875 0 0x01300 ∷ drive 250216885 0 0x01200 ∷ drive 250216885 0 0x01b00 ∷ drive 250217285 0 0x05b00 ∷ drive 250217285 7 0x08000 ∷ drive 250217285 0 0x01a00 ∷ drive 250217285 7 0x00000 ∷ drive 250217285 0 0x03b00 ∷ drive 250217685 0 0x07b00 ∷ drive 250217685 7 0x08000 ∷ drive 250217685 0 0x03a00 ∷ drive 250217685 7 0x00000 ∷ drive 250217685 0 0x00000 ∷ []

abbrev calling_in_vain_leaves_the_offer_guard_events : List Event
calling_in_vain_leaves_the_offer_guard_events = events.Accept (command 1) ∷ events.Run (command 1) ∷ events.End (command 1) 0 ∷ []

abbrev pub calling_in_vain_leaves_the_offer_guard_shown : Shows
calling_in_vain_leaves_the_offer_guard_shown = record { rows = reverse calling_in_vain_leaves_the_offer_guard_rows; history = reverse calling_in_vain_leaves_the_offer_guard_events; ended = true }

calling_in_vain_leaves_the_offer_guard_run : shown (run_by_due calling_in_vain_leaves_the_offer_guard 176) ≡ calling_in_vain_leaves_the_offer_guard_shown
unfolding need_of sent_of ones union_below line_of form_out form_in least run_from
calling_in_vain_leaves_the_offer_guard_run = refl

-- ---- device_concerns_each_unit_guard

abbrev pub device_concerns_each_unit_guard : ScenarioValue
device_concerns_each_unit_guard = record {
  version = 1;
  hosts = record { dev = 7; latency = 0; most = 4; retries = 2; period = 0; offset = 0; lag = 0; offers = true } ∷ record { dev = 6; latency = 0; most = 4; retries = 2; period = 0; offset = 0; lag = 0; offers = true } ∷ [];
  targets = record { dev = 0; latency = 0; retries = 2; disc = policies.Never; pick = picks.First; seek = 0; period = 0; offset = 0; begins = false } ∷ [];
  units = record { target = 0; unit = 0; blocks = 1; size = 16; depth = 4 } ∷ record { target = 0; unit = 1; blocks = 1; size = 16; depth = 4 } ∷ [];
  fills = [];
  tapes = [];
  loads = [];
  commands = record { host = 6; target = 0; unit = 1; at = 0; tag = tags.Untagged; cdb = (8 ∷ 0 ∷ 0 ∷ 1 ∷ 1 ∷ 0 ∷ []); payload = payloads.Nothing } ∷ record { host = 7; target = 0; unit = 1; at = 6000; tag = tags.Untagged; cdb = (0 ∷ 0 ∷ 0 ∷ 0 ∷ 0 ∷ 0 ∷ []); payload = payloads.Nothing } ∷ record { host = 7; target = 0; unit = 1; at = 30000; tag = tags.Untagged; cdb = (0 ∷ 0 ∷ 0 ∷ 0 ∷ 0 ∷ 0 ∷ []); payload = payloads.Nothing } ∷ record { host = 6; target = 0; unit = 1; at = 60000; tag = tags.Untagged; cdb = (3 ∷ 0 ∷ 0 ∷ 0 ∷ 18 ∷ 0 ∷ []); payload = payloads.Nothing } ∷ [];
  aborts = record { host = 7; target = 0; unit = 0; at = 10000; what = aborts.Device } ∷ [];
  resets = [];
  faults = [];
}

abbrev pub device_concerns_each_unit_guard_rows : List Row
device_concerns_each_unit_guard_rows = drive 1200 6 0x00240 ∷ drive 3600 6 0x00640 ∷ drive 4800 6 0x10741 ∷ drive 4890 6 0x10541 ∷ drive 5290 0 0x00200 ∷ drive 5380 6 0x10000 ∷ drive 5380 0 0x02a00 ∷ drive 5780 0 0x06a00 ∷ drive 5780 6 0x000c1 ∷ drive 5870 6 0x080c1 ∷ drive 5870 0 0x02a00 ∷ drive 5870 6 0x00000 ∷ drive 5870 0 0x00a00 ∷ drive 6270 0 0x04a00 ∷ drive 6270 6 0x00008 ∷ drive 6325 6 0x08008 ∷ drive 6325 0 0x00a00 ∷ drive 6325 6 0x00000 ∷ drive 6325 0 0x04a00 ∷ drive 6325 6 0x00100 ∷ drive 6380 6 0x08100 ∷ drive 6380 0 0x00a00 ∷ drive 6380 6 0x00000 ∷ drive 6380 0 0x04a00 ∷ drive 6380 6 0x00100 ∷ drive 6435 6 0x08100 ∷ drive 6435 0 0x00a00 ∷ drive 6435 6 0x00000 ∷ drive 6435 0 0x04a00 ∷ drive 6435 6 0x00001 ∷ drive 6490 6 0x08001 ∷ drive 6490 0 0x00a00 ∷ drive 6490 6 0x00000 ∷ drive 6490 0 0x04a00 ∷ drive 6490 6 0x00001 ∷ drive 6545 6 0x08001 ∷ drive 6545 0 0x00a00 ∷ drive 6545 6 0x00000 ∷ drive 6545 0 0x04a00 ∷ drive 6545 6 0x00100 ∷ drive 6600 6 0x08100 ∷ drive 6600 0 0x00a00 ∷ drive 6600 6 0x00000 ∷ drive 6600 0 0x01a00 ∷ drive 7400 0 0x01a02 ∷ drive 7455 0 0x05a02 ∷ drive 7455 6 0x08000 ∷ drive 7455 0 0x01a00 ∷ drive 7455 6 0x00000 ∷ drive 7455 0 0x03b00 ∷ drive 7855 0 0x07b00 ∷ drive 7855 6 0x08000 ∷ drive 7855 0 0x03a00 ∷ drive 7855 6 0x00000 ∷ drive 7855 0 0x00000 ∷ drive 9055 7 0x00280 ∷ drive 9055 6 0x00240 ∷ drive 11455 7 0x00680 ∷ drive 11455 6 0x00000 ∷ drive 12655 7 0x10781 ∷ drive 12745 7 0x10581 ∷ drive 13145 0 0x00200 ∷ drive 13235 7 0x10000 ∷ drive 13235 0 0x02a00 ∷ drive 13635 0 0x06a00 ∷ drive 13635 7 0x000c1 ∷ drive 13725 7 0x080c1 ∷ drive 13725 0 0x02a00 ∷ drive 13725 7 0x00000 ∷ drive 13725 0 0x00a00 ∷ drive 14125 0 0x04a00 ∷ drive 14125 7 0x00100 ∷ drive 14180 7 0x08100 ∷ drive 14180 0 0x00a00 ∷ drive 14180 7 0x00000 ∷ drive 14180 0 0x04a00 ∷ drive 14180 7 0x00100 ∷ drive 14235 7 0x08100 ∷ drive 14235 0 0x00a00 ∷ drive 14235 7 0x00000 ∷ drive 14235 0 0x04a00 ∷ drive 14235 7 0x00100 ∷ drive 14290 7 0x08100 ∷ drive 14290 0 0x00a00 ∷ drive 14290 7 0x00000 ∷ drive 14290 0 0x04a00 ∷ drive 14290 7 0x00100 ∷ drive 14345 7 0x08100 ∷ drive 14345 0 0x00a00 ∷ drive 14345 7 0x00000 ∷ drive 14345 0 0x04a00 ∷ drive 14345 7 0x00100 ∷ drive 14400 7 0x08100 ∷ drive 14400 0 0x00a00 ∷ drive 14400 7 0x00000 ∷ drive 14400 0 0x04a00 ∷ drive 14400 7 0x00100 ∷ drive 14455 7 0x08100 ∷ drive 14455 0 0x00a00 ∷ drive 14455 7 0x00000 ∷ drive 14455 0 0x03a00 ∷ drive 15255 0 0x03a04 ∷ drive 15310 0 0x07a04 ∷ drive 15310 7 0x08000 ∷ drive 15310 0 0x03a00 ∷ drive 15310 7 0x00000 ∷ drive 15310 0 0x00000 ∷ drive 16510 7 0x00280 ∷ drive 16510 6 0x00240 ∷ drive 18910 7 0x00680 ∷ drive 18910 6 0x00000 ∷ drive 20110 7 0x10781 ∷ drive 20200 7 0x10581 ∷ drive 20600 0 0x00200 ∷ drive 20690 7 0x10000 ∷ drive 20690 0 0x02a00 ∷ drive 21090 0 0x06a00 ∷ drive 21090 7 0x10080 ∷ drive 21145 7 0x18080 ∷ drive 21145 0 0x02a00 ∷ drive 21145 7 0x10000 ∷ drive 21145 0 0x06a00 ∷ drive 21145 7 0x0010c ∷ drive 21235 7 0x0810c ∷ drive 21235 0 0x02a00 ∷ drive 21235 7 0x00000 ∷ drive 21235 0 0x00000 ∷ drive 30000 7 0x00280 ∷ drive 32400 7 0x00680 ∷ drive 33600 7 0x10781 ∷ drive 33690 7 0x10581 ∷ drive 34090 0 0x00200 ∷ drive 34180 7 0x10000 ∷ drive 34180 0 0x02a00 ∷ drive 34580 0 0x06a00 ∷ drive 34580 7 0x000c1 ∷ drive 34670 7 0x080c1 ∷ drive 34670 0 0x02a00 ∷ drive 34670 7 0x00000 ∷ drive 34670 0 0x00a00 ∷ drive 35070 0 0x04a00 ∷ drive 35070 7 0x00100 ∷ drive 35125 7 0x08100 ∷ drive 35125 0 0x00a00 ∷ drive 35125 7 0x00000 ∷ drive 35125 0 0x04a00 ∷ drive 35125 7 0x00100 ∷ drive 35180 7 0x08100 ∷ drive 35180 0 0x00a00 ∷ drive 35180 7 0x00000 ∷ drive 35180 0 0x04a00 ∷ drive 35180 7 0x00100 ∷ drive 35235 7 0x08100 ∷ drive 35235 0 0x00a00 ∷ drive 35235 7 0x00000 ∷ drive 35235 0 0x04a00 ∷ drive 35235 7 0x00100 ∷ drive 35290 7 0x08100 ∷ drive 35290 0 0x00a00 ∷ drive 35290 7 0x00000 ∷ drive 35290 0 0x04a00 ∷ drive 35290 7 0x00100 ∷ drive 35345 7 0x08100 ∷ drive 35345 0 0x00a00 ∷ drive 35345 7 0x00000 ∷ drive 35345 0 0x04a00 ∷ drive 35345 7 0x00100 ∷ drive 35400 7 0x08100 ∷ drive 35400 0 0x00a00 ∷ drive 35400 7 0x00000 ∷ drive 35400 0 0x01a00 ∷ drive 36200 0 0x01a02 ∷ drive 36255 0 0x05a02 ∷ drive 36255 7 0x08000 ∷ drive 36255 0 0x01a00 ∷ drive 36255 7 0x00000 ∷ drive 36255 0 0x03b00 ∷ drive 36655 0 0x07b00 ∷ drive 36655 7 0x08000 ∷ drive 36655 0 0x03a00 ∷ drive 36655 7 0x00000 ∷ drive 36655 0 0x00000 ∷ drive 37855 7 0x00280 ∷ drive 40255 7 0x00680 ∷ drive 41455 7 0x10781 ∷ drive 41545 7 0x10581 ∷ drive 41945 0 0x00200 ∷ drive 42035 7 0x10000 ∷ drive 42035 0 0x02a00 ∷ drive 42435 0 0x06a00 ∷ drive 42435 7 0x00181 ∷ drive 42525 7 0x08181 ∷ drive 42525 0 0x02a00 ∷ drive 42525 7 0x00000 ∷ drive 42525 0 0x00a00 ∷ drive 42925 0 0x04a00 ∷ drive 42925 7 0x00103 ∷ drive 42980 7 0x08103 ∷ drive 42980 0 0x00a00 ∷ drive 42980 7 0x00000 ∷ drive 42980 0 0x04a00 ∷ drive 42980 7 0x00100 ∷ drive 43035 7 0x08100 ∷ drive 43035 0 0x00a00 ∷ drive 43035 7 0x00000 ∷ drive 43035 0 0x04a00 ∷ drive 43035 7 0x00100 ∷ drive 43090 7 0x08100 ∷ drive 43090 0 0x00a00 ∷ drive 43090 7 0x00000 ∷ drive 43090 0 0x04a00 ∷ drive 43090 7 0x00100 ∷ drive 43145 7 0x08100 ∷ drive 43145 0 0x00a00 ∷ drive 43145 7 0x00000 ∷ drive 43145 0 0x04a00 ∷ drive 43145 7 0x00112 ∷ drive 43200 7 0x08112 ∷ drive 43200 0 0x00a00 ∷ drive 43200 7 0x00000 ∷ drive 43200 0 0x04a00 ∷ drive 43200 7 0x00100 ∷ drive 43255 7 0x08100 ∷ drive 43255 0 0x00a00 ∷ drive 43255 7 0x00000 ∷ drive 43255 0 0x01200 ∷ drive 44055 0 0x01270 ∷ drive 44110 0 0x05270 ∷ drive 44110 7 0x08000 ∷ drive 44110 0 0x01300 ∷ drive 44110 7 0x00000 ∷ drive 44165 0 0x05300 ∷ drive 44165 7 0x08000 ∷ drive 44165 0 0x01306 ∷ drive 44165 7 0x00000 ∷ drive 44220 0 0x05306 ∷ drive 44220 7 0x08000 ∷ drive 44220 0 0x01300 ∷ drive 44220 7 0x00000 ∷ drive 44275 0 0x05300 ∷ drive 44275 7 0x08000 ∷ drive 44275 0 0x01300 ∷ drive 44275 7 0x00000 ∷ drive 44330 0 0x05300 ∷ drive 44330 7 0x08000 ∷ drive 44330 0 0x01300 ∷ drive 44330 7 0x00000 ∷ drive 44385 0 0x05300 ∷ drive 44385 7 0x08000 ∷ drive 44385 0 0x01300 ∷ drive 44385 7 0x00000 ∷ drive 44440 0 0x05300 ∷ drive 44440 7 0x08000 ∷ drive 44440 0 0x0130a ∷ drive 44440 7 0x00000 ∷ drive 44495 0 0x0530a ∷ drive 44495 7 0x08000 ∷ drive 44495 0 0x01300 ∷ drive 44495 7 0x00000 ∷ drive 44550 0 0x05300 ∷ drive 44550 7 0x08000 ∷ drive 44550 0 0x01300 ∷ drive 44550 7 0x00000 ∷ drive 44605 0 0x05300 ∷ drive 44605 7 0x08000 ∷ drive 44605 0 0x01300 ∷ drive 44605 7 0x00000 ∷ drive 44660 0 0x05300 ∷ drive 44660 7 0x08000 ∷ drive 44660 0 0x01300 ∷ drive 44660 7 0x00000 ∷ drive 44715 0 0x05300 ∷ drive 44715 7 0x08000 ∷ drive 44715 0 0x01229 ∷ drive 44715 7 0x00000 ∷ drive 44770 0 0x05229 ∷ drive 44770 7 0x08000 ∷ drive 44770 0 0x01300 ∷ drive 44770 7 0x00000 ∷ drive 44825 0 0x05300 ∷ drive 44825 7 0x08000 ∷ drive 44825 0 0x01300 ∷ drive 44825 7 0x00000 ∷ drive 44880 0 0x05300 ∷ drive 44880 7 0x08000 ∷ drive 44880 0 0x01300 ∷ drive 44880 7 0x00000 ∷ drive 44935 0 0x05300 ∷ drive 44935 7 0x08000 ∷ drive 44935 0 0x01300 ∷ drive 44935 7 0x00000 ∷ drive 44990 0 0x05300 ∷ drive 44990 7 0x08000 ∷ drive 44990 0 0x01300 ∷ drive 44990 7 0x00000 ∷ drive 45045 0 0x05300 ∷ drive 45045 7 0x08000 ∷ drive 45045 0 0x01200 ∷ drive 45045 7 0x00000 ∷ drive 45045 0 0x01b00 ∷ drive 45445 0 0x05b00 ∷ drive 45445 7 0x08000 ∷ drive 45445 0 0x01a00 ∷ drive 45445 7 0x00000 ∷ drive 45445 0 0x03b00 ∷ drive 45845 0 0x07b00 ∷ drive 45845 7 0x08000 ∷ drive 45845 0 0x03a00 ∷ drive 45845 7 0x00000 ∷ drive 45845 0 0x00000 ∷ drive 60000 6 0x00240 ∷ drive 62400 6 0x00640 ∷ drive 63600 6 0x10741 ∷ drive 63690 6 0x10541 ∷ drive 64090 0 0x00200 ∷ drive 64180 6 0x10000 ∷ drive 64180 0 0x02a00 ∷ drive 64580 0 0x06a00 ∷ drive 64580 6 0x000c1 ∷ drive 64670 6 0x080c1 ∷ drive 64670 0 0x02a00 ∷ drive 64670 6 0x00000 ∷ drive 64670 0 0x00a00 ∷ drive 65070 0 0x04a00 ∷ drive 65070 6 0x00103 ∷ drive 65125 6 0x08103 ∷ drive 65125 0 0x00a00 ∷ drive 65125 6 0x00000 ∷ drive 65125 0 0x04a00 ∷ drive 65125 6 0x00100 ∷ drive 65180 6 0x08100 ∷ drive 65180 0 0x00a00 ∷ drive 65180 6 0x00000 ∷ drive 65180 0 0x04a00 ∷ drive 65180 6 0x00100 ∷ drive 65235 6 0x08100 ∷ drive 65235 0 0x00a00 ∷ drive 65235 6 0x00000 ∷ drive 65235 0 0x04a00 ∷ drive 65235 6 0x00100 ∷ drive 65290 6 0x08100 ∷ drive 65290 0 0x00a00 ∷ drive 65290 6 0x00000 ∷ drive 65290 0 0x04a00 ∷ drive 65290 6 0x00112 ∷ drive 65345 6 0x08112 ∷ drive 65345 0 0x00a00 ∷ drive 65345 6 0x00000 ∷ drive 65345 0 0x04a00 ∷ drive 65345 6 0x00100 ∷ drive 65400 6 0x08100 ∷ drive 65400 0 0x00a00 ∷ drive 65400 6 0x00000 ∷ drive 65400 0 0x01200 ∷ drive 66200 0 0x01270 ∷ drive 66255 0 0x05270 ∷ drive 66255 6 0x08000 ∷ drive 66255 0 0x01300 ∷ drive 66255 6 0x00000 ∷ drive 66310 0 0x05300 ∷ drive 66310 6 0x08000 ∷ drive 66310 0 0x01300 ∷ drive 66310 6 0x00000 ∷ drive 66365 0 0x05300 ∷ drive 66365 6 0x08000 ∷ drive 66365 0 0x01300 ∷ drive 66365 6 0x00000 ∷ drive 66420 0 0x05300 ∷ drive 66420 6 0x08000 ∷ drive 66420 0 0x01300 ∷ drive 66420 6 0x00000 ∷ drive 66475 0 0x05300 ∷ drive 66475 6 0x08000 ∷ drive 66475 0 0x01300 ∷ drive 66475 6 0x00000 ∷ drive 66530 0 0x05300 ∷ drive 66530 6 0x08000 ∷ drive 66530 0 0x01300 ∷ drive 66530 6 0x00000 ∷ drive 66585 0 0x05300 ∷ drive 66585 6 0x08000 ∷ drive 66585 0 0x0130a ∷ drive 66585 6 0x00000 ∷ drive 66640 0 0x0530a ∷ drive 66640 6 0x08000 ∷ drive 66640 0 0x01300 ∷ drive 66640 6 0x00000 ∷ drive 66695 0 0x05300 ∷ drive 66695 6 0x08000 ∷ drive 66695 0 0x01300 ∷ drive 66695 6 0x00000 ∷ drive 66750 0 0x05300 ∷ drive 66750 6 0x08000 ∷ drive 66750 0 0x01300 ∷ drive 66750 6 0x00000 ∷ drive 66805 0 0x05300 ∷ drive 66805 6 0x08000 ∷ drive 66805 0 0x01300 ∷ drive 66805 6 0x00000 ∷ drive 66860 0 0x05300 ∷ drive 66860 6 0x08000 ∷ drive 66860 0 0x01300 ∷ drive 66860 6 0x00000 ∷ drive 66915 0 0x05300 ∷ drive 66915 6 0x08000 ∷ drive 66915 0 0x01300 ∷ drive 66915 6 0x00000 ∷ drive 66970 0 0x05300 ∷ drive 66970 6 0x08000 ∷ drive 66970 0 0x01300 ∷ drive 66970 6 0x00000 ∷ drive 67025 0 0x05300 ∷ drive 67025 6 0x08000 ∷ drive 67025 0 0x01300 ∷ drive 67025 6 0x00000 ∷ drive 67080 0 0x05300 ∷ drive 67080 6 0x08000 ∷ drive 67080 0 0x01300 ∷ drive 67080 6 0x00000 ∷ drive 67135 0 0x05300 ∷ drive 67135 6 0x08000 ∷ drive 67135 0 0x01300 ∷ drive 67135 6 0x00000 ∷ drive 67190 0 0x05300 ∷ drive 67190 6 0x08000 ∷ drive 67190 0 0x01200 ∷ drive 67190 6 0x00000 ∷ drive 67190 0 0x01b00 ∷ drive 67590 0 0x05b00 ∷ drive 67590 6 0x08000 ∷ drive 67590 0 0x01a00 ∷ drive 67590 6 0x00000 ∷ drive 67590 0 0x03b00 ∷ drive 67990 0 0x07b00 ∷ drive 67990 6 0x08000 ∷ drive 67990 0 0x03a00 ∷ drive 67990 6 0x00000 ∷ drive 67990 0 0x00000 ∷ []

abbrev device_concerns_each_unit_guard_events : List Event
device_concerns_each_unit_guard_events = events.Accept (command 1) ∷ events.Run (command 1) ∷ events.End (command 1) 2 ∷ events.Accept (command 2) ∷ events.Aborted 7 0 0 aborts.Device ∷ events.Accept (command 3) ∷ events.Run (command 3) ∷ events.End (command 3) 2 ∷ events.Accept (sense 3) ∷ events.Run (sense 3) ∷ events.End (sense 3) 0 ∷ events.Accept (command 4) ∷ events.Run (command 4) ∷ events.End (command 4) 0 ∷ []

abbrev pub device_concerns_each_unit_guard_shown : Shows
device_concerns_each_unit_guard_shown = record { rows = reverse device_concerns_each_unit_guard_rows; history = reverse device_concerns_each_unit_guard_events; ended = true }

device_concerns_each_unit_guard_run : shown (run_by_due device_concerns_each_unit_guard 439) ≡ device_concerns_each_unit_guard_shown
unfolding need_of sent_of ones union_below line_of form_out form_in least run_from
device_concerns_each_unit_guard_run = refl

-- ---- device_ends_the_hold_of_another_guard

abbrev pub device_ends_the_hold_of_another_guard : ScenarioValue
device_ends_the_hold_of_another_guard = record {
  version = 1;
  hosts = record { dev = 7; latency = 0; most = 4; retries = 2; period = 0; offset = 0; lag = 0; offers = true } ∷ record { dev = 6; latency = 0; most = 4; retries = 2; period = 0; offset = 0; lag = 0; offers = true } ∷ [];
  targets = record { dev = 0; latency = 0; retries = 2; disc = policies.Never; pick = picks.First; seek = 0; period = 0; offset = 0; begins = false } ∷ [];
  units = record { target = 0; unit = 0; blocks = 1; size = 16; depth = 4 } ∷ [];
  fills = [];
  tapes = [];
  loads = [];
  commands = record { host = 6; target = 0; unit = 0; at = 0; tag = tags.Untagged; cdb = (8 ∷ 0 ∷ 0 ∷ 1 ∷ 1 ∷ 0 ∷ []); payload = payloads.Nothing } ∷ record { host = 7; target = 0; unit = 0; at = 30000; tag = tags.Untagged; cdb = (0 ∷ 0 ∷ 0 ∷ 0 ∷ 0 ∷ 0 ∷ []); payload = payloads.Nothing } ∷ record { host = 6; target = 0; unit = 0; at = 60000; tag = tags.Untagged; cdb = (3 ∷ 0 ∷ 0 ∷ 0 ∷ 18 ∷ 0 ∷ []); payload = payloads.Nothing } ∷ [];
  aborts = record { host = 7; target = 0; unit = 0; at = 5000; what = aborts.Device } ∷ [];
  resets = [];
  faults = [];
}

abbrev pub device_ends_the_hold_of_another_guard_rows : List Row
device_ends_the_hold_of_another_guard_rows = drive 1200 6 0x00240 ∷ drive 3600 6 0x00640 ∷ drive 4800 6 0x10741 ∷ drive 4890 6 0x10541 ∷ drive 5290 0 0x00200 ∷ drive 5380 6 0x10000 ∷ drive 5380 0 0x02a00 ∷ drive 5780 0 0x06a00 ∷ drive 5780 6 0x001c0 ∷ drive 5870 6 0x081c0 ∷ drive 5870 0 0x02a00 ∷ drive 5870 6 0x00000 ∷ drive 5870 0 0x00a00 ∷ drive 6270 0 0x04a00 ∷ drive 6270 6 0x00008 ∷ drive 6325 6 0x08008 ∷ drive 6325 0 0x00a00 ∷ drive 6325 6 0x00000 ∷ drive 6325 0 0x04a00 ∷ drive 6325 6 0x00100 ∷ drive 6380 6 0x08100 ∷ drive 6380 0 0x00a00 ∷ drive 6380 6 0x00000 ∷ drive 6380 0 0x04a00 ∷ drive 6380 6 0x00100 ∷ drive 6435 6 0x08100 ∷ drive 6435 0 0x00a00 ∷ drive 6435 6 0x00000 ∷ drive 6435 0 0x04a00 ∷ drive 6435 6 0x00001 ∷ drive 6490 6 0x08001 ∷ drive 6490 0 0x00a00 ∷ drive 6490 6 0x00000 ∷ drive 6490 0 0x04a00 ∷ drive 6490 6 0x00001 ∷ drive 6545 6 0x08001 ∷ drive 6545 0 0x00a00 ∷ drive 6545 6 0x00000 ∷ drive 6545 0 0x04a00 ∷ drive 6545 6 0x00100 ∷ drive 6600 6 0x08100 ∷ drive 6600 0 0x00a00 ∷ drive 6600 6 0x00000 ∷ drive 6600 0 0x01a00 ∷ drive 7400 0 0x01a02 ∷ drive 7455 0 0x05a02 ∷ drive 7455 6 0x08000 ∷ drive 7455 0 0x01a00 ∷ drive 7455 6 0x00000 ∷ drive 7455 0 0x03b00 ∷ drive 7855 0 0x07b00 ∷ drive 7855 6 0x08000 ∷ drive 7855 0 0x03a00 ∷ drive 7855 6 0x00000 ∷ drive 7855 0 0x00000 ∷ drive 9055 7 0x00280 ∷ drive 9055 6 0x00240 ∷ drive 11455 7 0x00680 ∷ drive 11455 6 0x00000 ∷ drive 12655 7 0x10781 ∷ drive 12745 7 0x10581 ∷ drive 13145 0 0x00200 ∷ drive 13235 7 0x10000 ∷ drive 13235 0 0x02a00 ∷ drive 13635 0 0x06a00 ∷ drive 13635 7 0x10080 ∷ drive 13690 7 0x18080 ∷ drive 13690 0 0x02a00 ∷ drive 13690 7 0x10000 ∷ drive 13690 0 0x06a00 ∷ drive 13690 7 0x0010c ∷ drive 13780 7 0x0810c ∷ drive 13780 0 0x02a00 ∷ drive 13780 7 0x00000 ∷ drive 13780 0 0x00000 ∷ drive 30000 7 0x00280 ∷ drive 32400 7 0x00680 ∷ drive 33600 7 0x10781 ∷ drive 33690 7 0x10581 ∷ drive 34090 0 0x00200 ∷ drive 34180 7 0x10000 ∷ drive 34180 0 0x02a00 ∷ drive 34580 0 0x06a00 ∷ drive 34580 7 0x001c0 ∷ drive 34670 7 0x081c0 ∷ drive 34670 0 0x02a00 ∷ drive 34670 7 0x00000 ∷ drive 34670 0 0x00a00 ∷ drive 35070 0 0x04a00 ∷ drive 35070 7 0x00100 ∷ drive 35125 7 0x08100 ∷ drive 35125 0 0x00a00 ∷ drive 35125 7 0x00000 ∷ drive 35125 0 0x04a00 ∷ drive 35125 7 0x00100 ∷ drive 35180 7 0x08100 ∷ drive 35180 0 0x00a00 ∷ drive 35180 7 0x00000 ∷ drive 35180 0 0x04a00 ∷ drive 35180 7 0x00100 ∷ drive 35235 7 0x08100 ∷ drive 35235 0 0x00a00 ∷ drive 35235 7 0x00000 ∷ drive 35235 0 0x04a00 ∷ drive 35235 7 0x00100 ∷ drive 35290 7 0x08100 ∷ drive 35290 0 0x00a00 ∷ drive 35290 7 0x00000 ∷ drive 35290 0 0x04a00 ∷ drive 35290 7 0x00100 ∷ drive 35345 7 0x08100 ∷ drive 35345 0 0x00a00 ∷ drive 35345 7 0x00000 ∷ drive 35345 0 0x04a00 ∷ drive 35345 7 0x00100 ∷ drive 35400 7 0x08100 ∷ drive 35400 0 0x00a00 ∷ drive 35400 7 0x00000 ∷ drive 35400 0 0x01a00 ∷ drive 36200 0 0x01a02 ∷ drive 36255 0 0x05a02 ∷ drive 36255 7 0x08000 ∷ drive 36255 0 0x01a00 ∷ drive 36255 7 0x00000 ∷ drive 36255 0 0x03b00 ∷ drive 36655 0 0x07b00 ∷ drive 36655 7 0x08000 ∷ drive 36655 0 0x03a00 ∷ drive 36655 7 0x00000 ∷ drive 36655 0 0x00000 ∷ drive 37855 7 0x00280 ∷ drive 40255 7 0x00680 ∷ drive 41455 7 0x10781 ∷ drive 41545 7 0x10581 ∷ drive 41945 0 0x00200 ∷ drive 42035 7 0x10000 ∷ drive 42035 0 0x02a00 ∷ drive 42435 0 0x06a00 ∷ drive 42435 7 0x00080 ∷ drive 42525 7 0x08080 ∷ drive 42525 0 0x02a00 ∷ drive 42525 7 0x00000 ∷ drive 42525 0 0x00a00 ∷ drive 42925 0 0x04a00 ∷ drive 42925 7 0x00103 ∷ drive 42980 7 0x08103 ∷ drive 42980 0 0x00a00 ∷ drive 42980 7 0x00000 ∷ drive 42980 0 0x04a00 ∷ drive 42980 7 0x00100 ∷ drive 43035 7 0x08100 ∷ drive 43035 0 0x00a00 ∷ drive 43035 7 0x00000 ∷ drive 43035 0 0x04a00 ∷ drive 43035 7 0x00100 ∷ drive 43090 7 0x08100 ∷ drive 43090 0 0x00a00 ∷ drive 43090 7 0x00000 ∷ drive 43090 0 0x04a00 ∷ drive 43090 7 0x00100 ∷ drive 43145 7 0x08100 ∷ drive 43145 0 0x00a00 ∷ drive 43145 7 0x00000 ∷ drive 43145 0 0x04a00 ∷ drive 43145 7 0x00112 ∷ drive 43200 7 0x08112 ∷ drive 43200 0 0x00a00 ∷ drive 43200 7 0x00000 ∷ drive 43200 0 0x04a00 ∷ drive 43200 7 0x00100 ∷ drive 43255 7 0x08100 ∷ drive 43255 0 0x00a00 ∷ drive 43255 7 0x00000 ∷ drive 43255 0 0x01200 ∷ drive 44055 0 0x01270 ∷ drive 44110 0 0x05270 ∷ drive 44110 7 0x08000 ∷ drive 44110 0 0x01300 ∷ drive 44110 7 0x00000 ∷ drive 44165 0 0x05300 ∷ drive 44165 7 0x08000 ∷ drive 44165 0 0x01306 ∷ drive 44165 7 0x00000 ∷ drive 44220 0 0x05306 ∷ drive 44220 7 0x08000 ∷ drive 44220 0 0x01300 ∷ drive 44220 7 0x00000 ∷ drive 44275 0 0x05300 ∷ drive 44275 7 0x08000 ∷ drive 44275 0 0x01300 ∷ drive 44275 7 0x00000 ∷ drive 44330 0 0x05300 ∷ drive 44330 7 0x08000 ∷ drive 44330 0 0x01300 ∷ drive 44330 7 0x00000 ∷ drive 44385 0 0x05300 ∷ drive 44385 7 0x08000 ∷ drive 44385 0 0x01300 ∷ drive 44385 7 0x00000 ∷ drive 44440 0 0x05300 ∷ drive 44440 7 0x08000 ∷ drive 44440 0 0x0130a ∷ drive 44440 7 0x00000 ∷ drive 44495 0 0x0530a ∷ drive 44495 7 0x08000 ∷ drive 44495 0 0x01300 ∷ drive 44495 7 0x00000 ∷ drive 44550 0 0x05300 ∷ drive 44550 7 0x08000 ∷ drive 44550 0 0x01300 ∷ drive 44550 7 0x00000 ∷ drive 44605 0 0x05300 ∷ drive 44605 7 0x08000 ∷ drive 44605 0 0x01300 ∷ drive 44605 7 0x00000 ∷ drive 44660 0 0x05300 ∷ drive 44660 7 0x08000 ∷ drive 44660 0 0x01300 ∷ drive 44660 7 0x00000 ∷ drive 44715 0 0x05300 ∷ drive 44715 7 0x08000 ∷ drive 44715 0 0x01229 ∷ drive 44715 7 0x00000 ∷ drive 44770 0 0x05229 ∷ drive 44770 7 0x08000 ∷ drive 44770 0 0x01300 ∷ drive 44770 7 0x00000 ∷ drive 44825 0 0x05300 ∷ drive 44825 7 0x08000 ∷ drive 44825 0 0x01300 ∷ drive 44825 7 0x00000 ∷ drive 44880 0 0x05300 ∷ drive 44880 7 0x08000 ∷ drive 44880 0 0x01300 ∷ drive 44880 7 0x00000 ∷ drive 44935 0 0x05300 ∷ drive 44935 7 0x08000 ∷ drive 44935 0 0x01300 ∷ drive 44935 7 0x00000 ∷ drive 44990 0 0x05300 ∷ drive 44990 7 0x08000 ∷ drive 44990 0 0x01300 ∷ drive 44990 7 0x00000 ∷ drive 45045 0 0x05300 ∷ drive 45045 7 0x08000 ∷ drive 45045 0 0x01200 ∷ drive 45045 7 0x00000 ∷ drive 45045 0 0x01b00 ∷ drive 45445 0 0x05b00 ∷ drive 45445 7 0x08000 ∷ drive 45445 0 0x01a00 ∷ drive 45445 7 0x00000 ∷ drive 45445 0 0x03b00 ∷ drive 45845 0 0x07b00 ∷ drive 45845 7 0x08000 ∷ drive 45845 0 0x03a00 ∷ drive 45845 7 0x00000 ∷ drive 45845 0 0x00000 ∷ drive 60000 6 0x00240 ∷ drive 62400 6 0x00640 ∷ drive 63600 6 0x10741 ∷ drive 63690 6 0x10541 ∷ drive 64090 0 0x00200 ∷ drive 64180 6 0x10000 ∷ drive 64180 0 0x02a00 ∷ drive 64580 0 0x06a00 ∷ drive 64580 6 0x001c0 ∷ drive 64670 6 0x081c0 ∷ drive 64670 0 0x02a00 ∷ drive 64670 6 0x00000 ∷ drive 64670 0 0x00a00 ∷ drive 65070 0 0x04a00 ∷ drive 65070 6 0x00103 ∷ drive 65125 6 0x08103 ∷ drive 65125 0 0x00a00 ∷ drive 65125 6 0x00000 ∷ drive 65125 0 0x04a00 ∷ drive 65125 6 0x00100 ∷ drive 65180 6 0x08100 ∷ drive 65180 0 0x00a00 ∷ drive 65180 6 0x00000 ∷ drive 65180 0 0x04a00 ∷ drive 65180 6 0x00100 ∷ drive 65235 6 0x08100 ∷ drive 65235 0 0x00a00 ∷ drive 65235 6 0x00000 ∷ drive 65235 0 0x04a00 ∷ drive 65235 6 0x00100 ∷ drive 65290 6 0x08100 ∷ drive 65290 0 0x00a00 ∷ drive 65290 6 0x00000 ∷ drive 65290 0 0x04a00 ∷ drive 65290 6 0x00112 ∷ drive 65345 6 0x08112 ∷ drive 65345 0 0x00a00 ∷ drive 65345 6 0x00000 ∷ drive 65345 0 0x04a00 ∷ drive 65345 6 0x00100 ∷ drive 65400 6 0x08100 ∷ drive 65400 0 0x00a00 ∷ drive 65400 6 0x00000 ∷ drive 65400 0 0x01200 ∷ drive 66200 0 0x01270 ∷ drive 66255 0 0x05270 ∷ drive 66255 6 0x08000 ∷ drive 66255 0 0x01300 ∷ drive 66255 6 0x00000 ∷ drive 66310 0 0x05300 ∷ drive 66310 6 0x08000 ∷ drive 66310 0 0x01300 ∷ drive 66310 6 0x00000 ∷ drive 66365 0 0x05300 ∷ drive 66365 6 0x08000 ∷ drive 66365 0 0x01300 ∷ drive 66365 6 0x00000 ∷ drive 66420 0 0x05300 ∷ drive 66420 6 0x08000 ∷ drive 66420 0 0x01300 ∷ drive 66420 6 0x00000 ∷ drive 66475 0 0x05300 ∷ drive 66475 6 0x08000 ∷ drive 66475 0 0x01300 ∷ drive 66475 6 0x00000 ∷ drive 66530 0 0x05300 ∷ drive 66530 6 0x08000 ∷ drive 66530 0 0x01300 ∷ drive 66530 6 0x00000 ∷ drive 66585 0 0x05300 ∷ drive 66585 6 0x08000 ∷ drive 66585 0 0x0130a ∷ drive 66585 6 0x00000 ∷ drive 66640 0 0x0530a ∷ drive 66640 6 0x08000 ∷ drive 66640 0 0x01300 ∷ drive 66640 6 0x00000 ∷ drive 66695 0 0x05300 ∷ drive 66695 6 0x08000 ∷ drive 66695 0 0x01300 ∷ drive 66695 6 0x00000 ∷ drive 66750 0 0x05300 ∷ drive 66750 6 0x08000 ∷ drive 66750 0 0x01300 ∷ drive 66750 6 0x00000 ∷ drive 66805 0 0x05300 ∷ drive 66805 6 0x08000 ∷ drive 66805 0 0x01300 ∷ drive 66805 6 0x00000 ∷ drive 66860 0 0x05300 ∷ drive 66860 6 0x08000 ∷ drive 66860 0 0x01300 ∷ drive 66860 6 0x00000 ∷ drive 66915 0 0x05300 ∷ drive 66915 6 0x08000 ∷ drive 66915 0 0x01300 ∷ drive 66915 6 0x00000 ∷ drive 66970 0 0x05300 ∷ drive 66970 6 0x08000 ∷ drive 66970 0 0x01300 ∷ drive 66970 6 0x00000 ∷ drive 67025 0 0x05300 ∷ drive 67025 6 0x08000 ∷ drive 67025 0 0x01300 ∷ drive 67025 6 0x00000 ∷ drive 67080 0 0x05300 ∷ drive 67080 6 0x08000 ∷ drive 67080 0 0x01300 ∷ drive 67080 6 0x00000 ∷ drive 67135 0 0x05300 ∷ drive 67135 6 0x08000 ∷ drive 67135 0 0x01300 ∷ drive 67135 6 0x00000 ∷ drive 67190 0 0x05300 ∷ drive 67190 6 0x08000 ∷ drive 67190 0 0x01200 ∷ drive 67190 6 0x00000 ∷ drive 67190 0 0x01b00 ∷ drive 67590 0 0x05b00 ∷ drive 67590 6 0x08000 ∷ drive 67590 0 0x01a00 ∷ drive 67590 6 0x00000 ∷ drive 67590 0 0x03b00 ∷ drive 67990 0 0x07b00 ∷ drive 67990 6 0x08000 ∷ drive 67990 0 0x03a00 ∷ drive 67990 6 0x00000 ∷ drive 67990 0 0x00000 ∷ []

abbrev device_ends_the_hold_of_another_guard_events : List Event
device_ends_the_hold_of_another_guard_events = events.Accept (command 1) ∷ events.Run (command 1) ∷ events.End (command 1) 2 ∷ events.Aborted 7 0 0 aborts.Device ∷ events.Accept (command 2) ∷ events.Run (command 2) ∷ events.End (command 2) 2 ∷ events.Accept (sense 2) ∷ events.Run (sense 2) ∷ events.End (sense 2) 0 ∷ events.Accept (command 3) ∷ events.Run (command 3) ∷ events.End (command 3) 0 ∷ []

abbrev pub device_ends_the_hold_of_another_guard_shown : Shows
device_ends_the_hold_of_another_guard_shown = record { rows = reverse device_ends_the_hold_of_another_guard_rows; history = reverse device_ends_the_hold_of_another_guard_events; ended = true }

device_ends_the_hold_of_another_guard_run : shown (run_by_due device_ends_the_hold_of_another_guard 387) ≡ device_ends_the_hold_of_another_guard_shown
unfolding need_of sent_of ones union_below line_of form_out form_in least run_from
device_ends_the_hold_of_another_guard_run = refl

-- ---- device_leaves_another_target_guard

abbrev pub device_leaves_another_target_guard : ScenarioValue
device_leaves_another_target_guard = record {
  version = 1;
  hosts = record { dev = 7; latency = 0; most = 4; retries = 2; period = 0; offset = 0; lag = 0; offers = true } ∷ record { dev = 6; latency = 0; most = 4; retries = 2; period = 0; offset = 0; lag = 0; offers = true } ∷ [];
  targets = record { dev = 0; latency = 0; retries = 2; disc = policies.Never; pick = picks.First; seek = 0; period = 0; offset = 0; begins = false } ∷ record { dev = 1; latency = 0; retries = 2; disc = policies.Never; pick = picks.First; seek = 0; period = 0; offset = 0; begins = false } ∷ [];
  units = record { target = 0; unit = 0; blocks = 1; size = 16; depth = 4 } ∷ record { target = 1; unit = 0; blocks = 1; size = 16; depth = 4 } ∷ [];
  fills = [];
  tapes = [];
  loads = [];
  commands = record { host = 6; target = 1; unit = 0; at = 0; tag = tags.Untagged; cdb = (8 ∷ 0 ∷ 0 ∷ 1 ∷ 1 ∷ 0 ∷ []); payload = payloads.Nothing } ∷ record { host = 7; target = 1; unit = 0; at = 6000; tag = tags.Untagged; cdb = (0 ∷ 0 ∷ 0 ∷ 0 ∷ 0 ∷ 0 ∷ []); payload = payloads.Nothing } ∷ [];
  aborts = record { host = 7; target = 0; unit = 0; at = 5000; what = aborts.Device } ∷ [];
  resets = [];
  faults = [];
}

abbrev pub device_leaves_another_target_guard_rows : List Row
device_leaves_another_target_guard_rows = drive 1200 6 0x00240 ∷ drive 3600 6 0x00640 ∷ drive 4800 6 0x10742 ∷ drive 4890 6 0x10542 ∷ drive 5290 1 0x00200 ∷ drive 5380 6 0x10000 ∷ drive 5380 1 0x02a00 ∷ drive 5780 1 0x06a00 ∷ drive 5780 6 0x001c0 ∷ drive 5870 6 0x081c0 ∷ drive 5870 1 0x02a00 ∷ drive 5870 6 0x00000 ∷ drive 5870 1 0x00a00 ∷ drive 6270 1 0x04a00 ∷ drive 6270 6 0x00008 ∷ drive 6325 6 0x08008 ∷ drive 6325 1 0x00a00 ∷ drive 6325 6 0x00000 ∷ drive 6325 1 0x04a00 ∷ drive 6325 6 0x00100 ∷ drive 6380 6 0x08100 ∷ drive 6380 1 0x00a00 ∷ drive 6380 6 0x00000 ∷ drive 6380 1 0x04a00 ∷ drive 6380 6 0x00100 ∷ drive 6435 6 0x08100 ∷ drive 6435 1 0x00a00 ∷ drive 6435 6 0x00000 ∷ drive 6435 1 0x04a00 ∷ drive 6435 6 0x00001 ∷ drive 6490 6 0x08001 ∷ drive 6490 1 0x00a00 ∷ drive 6490 6 0x00000 ∷ drive 6490 1 0x04a00 ∷ drive 6490 6 0x00001 ∷ drive 6545 6 0x08001 ∷ drive 6545 1 0x00a00 ∷ drive 6545 6 0x00000 ∷ drive 6545 1 0x04a00 ∷ drive 6545 6 0x00100 ∷ drive 6600 6 0x08100 ∷ drive 6600 1 0x00a00 ∷ drive 6600 6 0x00000 ∷ drive 6600 1 0x01a00 ∷ drive 7400 1 0x01a02 ∷ drive 7455 1 0x05a02 ∷ drive 7455 6 0x08000 ∷ drive 7455 1 0x01a00 ∷ drive 7455 6 0x00000 ∷ drive 7455 1 0x03b00 ∷ drive 7855 1 0x07b00 ∷ drive 7855 6 0x08000 ∷ drive 7855 1 0x03a00 ∷ drive 7855 6 0x00000 ∷ drive 7855 1 0x00000 ∷ drive 9055 7 0x00280 ∷ drive 9055 6 0x00240 ∷ drive 11455 7 0x00680 ∷ drive 11455 6 0x00000 ∷ drive 12655 7 0x10781 ∷ drive 12745 7 0x10581 ∷ drive 13145 0 0x00200 ∷ drive 13235 7 0x10000 ∷ drive 13235 0 0x02a00 ∷ drive 13635 0 0x06a00 ∷ drive 13635 7 0x10080 ∷ drive 13690 7 0x18080 ∷ drive 13690 0 0x02a00 ∷ drive 13690 7 0x10000 ∷ drive 13690 0 0x06a00 ∷ drive 13690 7 0x0010c ∷ drive 13780 7 0x0810c ∷ drive 13780 0 0x02a00 ∷ drive 13780 7 0x00000 ∷ drive 13780 0 0x00000 ∷ drive 14980 7 0x00280 ∷ drive 14980 6 0x00240 ∷ drive 17380 7 0x00680 ∷ drive 17380 6 0x00000 ∷ drive 18580 7 0x10782 ∷ drive 18670 7 0x10582 ∷ drive 19070 1 0x00200 ∷ drive 19160 7 0x10000 ∷ drive 19160 1 0x02a00 ∷ drive 19560 1 0x06a00 ∷ drive 19560 7 0x001c0 ∷ drive 19650 7 0x081c0 ∷ drive 19650 1 0x02a00 ∷ drive 19650 7 0x00000 ∷ drive 19650 1 0x00a00 ∷ drive 20050 1 0x04a00 ∷ drive 20050 7 0x00100 ∷ drive 20105 7 0x08100 ∷ drive 20105 1 0x00a00 ∷ drive 20105 7 0x00000 ∷ drive 20105 1 0x04a00 ∷ drive 20105 7 0x00100 ∷ drive 20160 7 0x08100 ∷ drive 20160 1 0x00a00 ∷ drive 20160 7 0x00000 ∷ drive 20160 1 0x04a00 ∷ drive 20160 7 0x00100 ∷ drive 20215 7 0x08100 ∷ drive 20215 1 0x00a00 ∷ drive 20215 7 0x00000 ∷ drive 20215 1 0x04a00 ∷ drive 20215 7 0x00100 ∷ drive 20270 7 0x08100 ∷ drive 20270 1 0x00a00 ∷ drive 20270 7 0x00000 ∷ drive 20270 1 0x04a00 ∷ drive 20270 7 0x00100 ∷ drive 20325 7 0x08100 ∷ drive 20325 1 0x00a00 ∷ drive 20325 7 0x00000 ∷ drive 20325 1 0x04a00 ∷ drive 20325 7 0x00100 ∷ drive 20380 7 0x08100 ∷ drive 20380 1 0x00a00 ∷ drive 20380 7 0x00000 ∷ drive 20380 1 0x03a00 ∷ drive 21180 1 0x03a04 ∷ drive 21235 1 0x07a04 ∷ drive 21235 7 0x08000 ∷ drive 21235 1 0x03a00 ∷ drive 21235 7 0x00000 ∷ drive 21235 1 0x00000 ∷ drive 22435 6 0x00240 ∷ drive 24835 6 0x00640 ∷ drive 26035 6 0x10742 ∷ drive 26125 6 0x10542 ∷ drive 26525 1 0x00200 ∷ drive 26615 6 0x10000 ∷ drive 26615 1 0x02a00 ∷ drive 27015 1 0x06a00 ∷ drive 27015 6 0x00080 ∷ drive 27105 6 0x08080 ∷ drive 27105 1 0x02a00 ∷ drive 27105 6 0x00000 ∷ drive 27105 1 0x00a00 ∷ drive 27505 1 0x04a00 ∷ drive 27505 6 0x00103 ∷ drive 27560 6 0x08103 ∷ drive 27560 1 0x00a00 ∷ drive 27560 6 0x00000 ∷ drive 27560 1 0x04a00 ∷ drive 27560 6 0x00100 ∷ drive 27615 6 0x08100 ∷ drive 27615 1 0x00a00 ∷ drive 27615 6 0x00000 ∷ drive 27615 1 0x04a00 ∷ drive 27615 6 0x00100 ∷ drive 27670 6 0x08100 ∷ drive 27670 1 0x00a00 ∷ drive 27670 6 0x00000 ∷ drive 27670 1 0x04a00 ∷ drive 27670 6 0x00100 ∷ drive 27725 6 0x08100 ∷ drive 27725 1 0x00a00 ∷ drive 27725 6 0x00000 ∷ drive 27725 1 0x04a00 ∷ drive 27725 6 0x00112 ∷ drive 27780 6 0x08112 ∷ drive 27780 1 0x00a00 ∷ drive 27780 6 0x00000 ∷ drive 27780 1 0x04a00 ∷ drive 27780 6 0x00100 ∷ drive 27835 6 0x08100 ∷ drive 27835 1 0x00a00 ∷ drive 27835 6 0x00000 ∷ drive 27835 1 0x01200 ∷ drive 28635 1 0x01270 ∷ drive 28690 1 0x05270 ∷ drive 28690 6 0x08000 ∷ drive 28690 1 0x01300 ∷ drive 28690 6 0x00000 ∷ drive 28745 1 0x05300 ∷ drive 28745 6 0x08000 ∷ drive 28745 1 0x01305 ∷ drive 28745 6 0x00000 ∷ drive 28800 1 0x05305 ∷ drive 28800 6 0x08000 ∷ drive 28800 1 0x01300 ∷ drive 28800 6 0x00000 ∷ drive 28855 1 0x05300 ∷ drive 28855 6 0x08000 ∷ drive 28855 1 0x01300 ∷ drive 28855 6 0x00000 ∷ drive 28910 1 0x05300 ∷ drive 28910 6 0x08000 ∷ drive 28910 1 0x01300 ∷ drive 28910 6 0x00000 ∷ drive 28965 1 0x05300 ∷ drive 28965 6 0x08000 ∷ drive 28965 1 0x01300 ∷ drive 28965 6 0x00000 ∷ drive 29020 1 0x05300 ∷ drive 29020 6 0x08000 ∷ drive 29020 1 0x0130a ∷ drive 29020 6 0x00000 ∷ drive 29075 1 0x0530a ∷ drive 29075 6 0x08000 ∷ drive 29075 1 0x01300 ∷ drive 29075 6 0x00000 ∷ drive 29130 1 0x05300 ∷ drive 29130 6 0x08000 ∷ drive 29130 1 0x01300 ∷ drive 29130 6 0x00000 ∷ drive 29185 1 0x05300 ∷ drive 29185 6 0x08000 ∷ drive 29185 1 0x01300 ∷ drive 29185 6 0x00000 ∷ drive 29240 1 0x05300 ∷ drive 29240 6 0x08000 ∷ drive 29240 1 0x01300 ∷ drive 29240 6 0x00000 ∷ drive 29295 1 0x05300 ∷ drive 29295 6 0x08000 ∷ drive 29295 1 0x01321 ∷ drive 29295 6 0x00000 ∷ drive 29350 1 0x05321 ∷ drive 29350 6 0x08000 ∷ drive 29350 1 0x01300 ∷ drive 29350 6 0x00000 ∷ drive 29405 1 0x05300 ∷ drive 29405 6 0x08000 ∷ drive 29405 1 0x01300 ∷ drive 29405 6 0x00000 ∷ drive 29460 1 0x05300 ∷ drive 29460 6 0x08000 ∷ drive 29460 1 0x01300 ∷ drive 29460 6 0x00000 ∷ drive 29515 1 0x05300 ∷ drive 29515 6 0x08000 ∷ drive 29515 1 0x01300 ∷ drive 29515 6 0x00000 ∷ drive 29570 1 0x05300 ∷ drive 29570 6 0x08000 ∷ drive 29570 1 0x01300 ∷ drive 29570 6 0x00000 ∷ drive 29625 1 0x05300 ∷ drive 29625 6 0x08000 ∷ drive 29625 1 0x01200 ∷ drive 29625 6 0x00000 ∷ drive 29625 1 0x01b00 ∷ drive 30025 1 0x05b00 ∷ drive 30025 6 0x08000 ∷ drive 30025 1 0x01a00 ∷ drive 30025 6 0x00000 ∷ drive 30025 1 0x03b00 ∷ drive 30425 1 0x07b00 ∷ drive 30425 6 0x08000 ∷ drive 30425 1 0x03a00 ∷ drive 30425 6 0x00000 ∷ drive 30425 1 0x00000 ∷ drive 31625 1 0x00202 ∷ drive 34025 1 0x00602 ∷ drive 35225 1 0x01782 ∷ drive 35315 1 0x01582 ∷ drive 35715 7 0x00200 ∷ drive 35715 1 0x01782 ∷ drive 35805 1 0x03a80 ∷ drive 35805 7 0x00000 ∷ drive 36205 1 0x07a80 ∷ drive 36205 7 0x08000 ∷ drive 36205 1 0x03a00 ∷ drive 36205 7 0x00000 ∷ drive 36205 1 0x01b00 ∷ drive 36605 1 0x05b00 ∷ drive 36605 7 0x08000 ∷ drive 36605 1 0x01a00 ∷ drive 36605 7 0x00000 ∷ drive 36605 1 0x03b00 ∷ drive 37005 1 0x07b00 ∷ drive 37005 7 0x08000 ∷ drive 37005 1 0x03a00 ∷ drive 37005 7 0x00000 ∷ drive 37005 1 0x00000 ∷ []

abbrev device_leaves_another_target_guard_events : List Event
device_leaves_another_target_guard_events = events.Accept (command 1) ∷ events.Run (command 1) ∷ events.End (command 1) 2 ∷ events.Aborted 7 0 0 aborts.Device ∷ events.Accept (command 2) ∷ events.Accept (sense 1) ∷ events.Run (sense 1) ∷ events.End (sense 1) 0 ∷ events.Run (command 2) ∷ events.End (command 2) 0 ∷ []

abbrev pub device_leaves_another_target_guard_shown : Shows
device_leaves_another_target_guard_shown = record { rows = reverse device_leaves_another_target_guard_rows; history = reverse device_leaves_another_target_guard_events; ended = true }

device_leaves_another_target_guard_run : shown (run_by_due device_leaves_another_target_guard 279) ≡ device_leaves_another_target_guard_shown
unfolding need_of sent_of ones union_below line_of form_out form_in least run_from
device_leaves_another_target_guard_run = refl

-- ---- device_of_one_target_guard

abbrev pub device_of_one_target_guard : ScenarioValue
device_of_one_target_guard = record {
  version = 1;
  hosts = record { dev = 7; latency = 0; most = 8; retries = 2; period = 0; offset = 0; lag = 0; offers = true } ∷ record { dev = 6; latency = 0; most = 8; retries = 2; period = 0; offset = 0; lag = 0; offers = true } ∷ [];
  targets = record { dev = 0; latency = 0; retries = 2; disc = policies.Command; pick = picks.First; seek = 60000; period = 0; offset = 0; begins = false } ∷ record { dev = 1; latency = 0; retries = 2; disc = policies.Command; pick = picks.First; seek = 60000; period = 0; offset = 0; begins = false } ∷ [];
  units = record { target = 0; unit = 0; blocks = 1; size = 16; depth = 4 } ∷ record { target = 1; unit = 0; blocks = 1; size = 16; depth = 4 } ∷ [];
  fills = [];
  tapes = [];
  loads = [];
  commands = record { host = 7; target = 0; unit = 0; at = 0; tag = tags.Simple 1; cdb = (0 ∷ 0 ∷ 0 ∷ 0 ∷ 0 ∷ 0 ∷ []); payload = payloads.Nothing } ∷ record { host = 7; target = 1; unit = 0; at = 0; tag = tags.Simple 1; cdb = (0 ∷ 0 ∷ 0 ∷ 0 ∷ 0 ∷ 0 ∷ []); payload = payloads.Nothing } ∷ [];
  aborts = record { host = 6; target = 0; unit = 0; at = 20000; what = aborts.Device } ∷ [];
  resets = [];
  faults = [];
}

abbrev pub device_of_one_target_guard_rows : List Row
device_of_one_target_guard_rows = drive 1200 7 0x00280 ∷ drive 3600 7 0x00680 ∷ drive 4800 7 0x10781 ∷ drive 4890 7 0x10581 ∷ drive 5290 0 0x00200 ∷ drive 5380 7 0x10000 ∷ drive 5380 0 0x02a00 ∷ drive 5780 0 0x06a00 ∷ drive 5780 7 0x101c0 ∷ drive 5835 7 0x181c0 ∷ drive 5835 0 0x02a00 ∷ drive 5835 7 0x10000 ∷ drive 5835 0 0x06a00 ∷ drive 5835 7 0x10020 ∷ drive 5890 7 0x18020 ∷ drive 5890 0 0x02a00 ∷ drive 5890 7 0x10000 ∷ drive 5890 0 0x06a00 ∷ drive 5890 7 0x00001 ∷ drive 5980 7 0x08001 ∷ drive 5980 0 0x02a00 ∷ drive 5980 7 0x00000 ∷ drive 5980 0 0x00a00 ∷ drive 6380 0 0x04a00 ∷ drive 6380 7 0x00100 ∷ drive 6435 7 0x08100 ∷ drive 6435 0 0x00a00 ∷ drive 6435 7 0x00000 ∷ drive 6435 0 0x04a00 ∷ drive 6435 7 0x00100 ∷ drive 6490 7 0x08100 ∷ drive 6490 0 0x00a00 ∷ drive 6490 7 0x00000 ∷ drive 6490 0 0x04a00 ∷ drive 6490 7 0x00100 ∷ drive 6545 7 0x08100 ∷ drive 6545 0 0x00a00 ∷ drive 6545 7 0x00000 ∷ drive 6545 0 0x04a00 ∷ drive 6545 7 0x00100 ∷ drive 6600 7 0x08100 ∷ drive 6600 0 0x00a00 ∷ drive 6600 7 0x00000 ∷ drive 6600 0 0x04a00 ∷ drive 6600 7 0x00100 ∷ drive 6655 7 0x08100 ∷ drive 6655 0 0x00a00 ∷ drive 6655 7 0x00000 ∷ drive 6655 0 0x04a00 ∷ drive 6655 7 0x00100 ∷ drive 6710 7 0x08100 ∷ drive 6710 0 0x00a00 ∷ drive 6710 7 0x00000 ∷ drive 6710 0 0x03a00 ∷ drive 7510 0 0x03a04 ∷ drive 7565 0 0x07a04 ∷ drive 7565 7 0x08000 ∷ drive 7565 0 0x03a00 ∷ drive 7565 7 0x00000 ∷ drive 7565 0 0x00000 ∷ drive 8765 7 0x00280 ∷ drive 11165 7 0x00680 ∷ drive 12365 7 0x10782 ∷ drive 12455 7 0x10582 ∷ drive 12855 1 0x00200 ∷ drive 12945 7 0x10000 ∷ drive 12945 1 0x02a00 ∷ drive 13345 1 0x06a00 ∷ drive 13345 7 0x101c0 ∷ drive 13400 7 0x181c0 ∷ drive 13400 1 0x02a00 ∷ drive 13400 7 0x10000 ∷ drive 13400 1 0x06a00 ∷ drive 13400 7 0x10020 ∷ drive 13455 7 0x18020 ∷ drive 13455 1 0x02a00 ∷ drive 13455 7 0x10000 ∷ drive 13455 1 0x06a00 ∷ drive 13455 7 0x00001 ∷ drive 13545 7 0x08001 ∷ drive 13545 1 0x02a00 ∷ drive 13545 7 0x00000 ∷ drive 13545 1 0x00a00 ∷ drive 13945 1 0x04a00 ∷ drive 13945 7 0x00100 ∷ drive 14000 7 0x08100 ∷ drive 14000 1 0x00a00 ∷ drive 14000 7 0x00000 ∷ drive 14000 1 0x04a00 ∷ drive 14000 7 0x00100 ∷ drive 14055 7 0x08100 ∷ drive 14055 1 0x00a00 ∷ drive 14055 7 0x00000 ∷ drive 14055 1 0x04a00 ∷ drive 14055 7 0x00100 ∷ drive 14110 7 0x08100 ∷ drive 14110 1 0x00a00 ∷ drive 14110 7 0x00000 ∷ drive 14110 1 0x04a00 ∷ drive 14110 7 0x00100 ∷ drive 14165 7 0x08100 ∷ drive 14165 1 0x00a00 ∷ drive 14165 7 0x00000 ∷ drive 14165 1 0x04a00 ∷ drive 14165 7 0x00100 ∷ drive 14220 7 0x08100 ∷ drive 14220 1 0x00a00 ∷ drive 14220 7 0x00000 ∷ drive 14220 1 0x04a00 ∷ drive 14220 7 0x00100 ∷ drive 14275 7 0x08100 ∷ drive 14275 1 0x00a00 ∷ drive 14275 7 0x00000 ∷ drive 14275 1 0x03a00 ∷ drive 15075 1 0x03a04 ∷ drive 15130 1 0x07a04 ∷ drive 15130 7 0x08000 ∷ drive 15130 1 0x03a00 ∷ drive 15130 7 0x00000 ∷ drive 15130 1 0x00000 ∷ drive 20000 6 0x00240 ∷ drive 22400 6 0x00640 ∷ drive 23600 6 0x10741 ∷ drive 23690 6 0x10541 ∷ drive 24090 0 0x00200 ∷ drive 24180 6 0x10000 ∷ drive 24180 0 0x02a00 ∷ drive 24580 0 0x06a00 ∷ drive 24580 6 0x10080 ∷ drive 24635 6 0x18080 ∷ drive 24635 0 0x02a00 ∷ drive 24635 6 0x10000 ∷ drive 24635 0 0x06a00 ∷ drive 24635 6 0x0010c ∷ drive 24725 6 0x0810c ∷ drive 24725 0 0x02a00 ∷ drive 24725 6 0x00000 ∷ drive 24725 0 0x00000 ∷ drive 74275 1 0x00202 ∷ drive 76675 1 0x00602 ∷ drive 77875 1 0x01782 ∷ drive 77965 1 0x01582 ∷ drive 78365 7 0x00200 ∷ drive 78365 1 0x01782 ∷ drive 78455 1 0x03a80 ∷ drive 78455 7 0x00000 ∷ drive 78855 1 0x07a80 ∷ drive 78855 7 0x08000 ∷ drive 78855 1 0x03a20 ∷ drive 78855 7 0x00000 ∷ drive 78910 1 0x07a20 ∷ drive 78910 7 0x08000 ∷ drive 78910 1 0x03a01 ∷ drive 78910 7 0x00000 ∷ drive 78965 1 0x07a01 ∷ drive 78965 7 0x08000 ∷ drive 78965 1 0x03a00 ∷ drive 78965 7 0x00000 ∷ drive 78965 1 0x01b00 ∷ drive 79365 1 0x05b00 ∷ drive 79365 7 0x08000 ∷ drive 79365 1 0x01a00 ∷ drive 79365 7 0x00000 ∷ drive 79365 1 0x03b00 ∷ drive 79765 1 0x07b00 ∷ drive 79765 7 0x08000 ∷ drive 79765 1 0x03a00 ∷ drive 79765 7 0x00000 ∷ drive 79765 1 0x00000 ∷ []

abbrev device_of_one_target_guard_events : List Event
device_of_one_target_guard_events = events.Accept (command 1) ∷ events.Accept (command 2) ∷ events.Aborted 6 0 0 aborts.Device ∷ events.Run (command 2) ∷ events.End (command 2) 0 ∷ []

abbrev pub device_of_one_target_guard_shown : Shows
device_of_one_target_guard_shown = record { rows = reverse device_of_one_target_guard_rows; history = reverse device_of_one_target_guard_events; ended = true }

device_of_one_target_guard_run : shown (run_by_due device_of_one_target_guard 170) ≡ device_of_one_target_guard_shown
unfolding need_of sent_of ones union_below line_of form_out form_in least run_from
device_of_one_target_guard_run = refl

-- ---- device_reset_in_text_one_guard

abbrev pub device_reset_in_text_one_guard : ScenarioValue
device_reset_in_text_one_guard = record {
  version = 1;
  hosts = record { dev = 7; latency = 0; most = 1; retries = 2; period = 50; offset = 8; lag = 0; offers = true } ∷ record { dev = 6; latency = 0; most = 1; retries = 2; period = 0; offset = 0; lag = 0; offers = true } ∷ [];
  targets = record { dev = 0; latency = 0; retries = 2; disc = policies.Never; pick = picks.First; seek = 0; period = 50; offset = 8; begins = false } ∷ record { dev = 1; latency = 0; retries = 2; disc = policies.Never; pick = picks.First; seek = 0; period = 50; offset = 8; begins = false } ∷ [];
  units = record { target = 0; unit = 0; blocks = 1; size = 16; depth = 1 } ∷ record { target = 1; unit = 0; blocks = 1; size = 16; depth = 1 } ∷ [];
  fills = [];
  tapes = [];
  loads = [];
  commands = record { host = 7; target = 0; unit = 0; at = 50000; tag = tags.Untagged; cdb = (18 ∷ 0 ∷ 0 ∷ 0 ∷ 4 ∷ 0 ∷ []); payload = payloads.Nothing } ∷ record { host = 7; target = 1; unit = 0; at = 50000; tag = tags.Untagged; cdb = (18 ∷ 0 ∷ 0 ∷ 0 ∷ 4 ∷ 0 ∷ []); payload = payloads.Nothing } ∷ [];
  aborts = record { host = 6; target = 0; unit = 0; at = 0; what = aborts.Device } ∷ [];
  resets = [];
  faults = [];
}

abbrev pub device_reset_in_text_one_guard_rows : List Row
device_reset_in_text_one_guard_rows = drive 1200 6 0x00240 ∷ drive 3600 6 0x00640 ∷ drive 4800 6 0x10741 ∷ drive 4890 6 0x10541 ∷ drive 5290 0 0x00200 ∷ drive 5380 6 0x10000 ∷ drive 5380 0 0x02a00 ∷ drive 5780 0 0x06a00 ∷ drive 5780 6 0x10080 ∷ drive 5835 6 0x18080 ∷ drive 5835 0 0x02a00 ∷ drive 5835 6 0x10000 ∷ drive 5835 0 0x06a00 ∷ drive 5835 6 0x0010c ∷ drive 5925 6 0x0810c ∷ drive 5925 0 0x02a00 ∷ drive 5925 6 0x00000 ∷ drive 5925 0 0x00000 ∷ drive 50000 7 0x00280 ∷ drive 52400 7 0x00680 ∷ drive 53600 7 0x10781 ∷ drive 53690 7 0x10581 ∷ drive 54090 0 0x00200 ∷ drive 54180 7 0x10000 ∷ drive 54180 0 0x02a00 ∷ drive 54580 0 0x06a00 ∷ drive 54580 7 0x001c0 ∷ drive 54670 7 0x081c0 ∷ drive 54670 0 0x02a00 ∷ drive 54670 7 0x00000 ∷ drive 54670 0 0x00a00 ∷ drive 55070 0 0x04a00 ∷ drive 55070 7 0x00112 ∷ drive 55125 7 0x08112 ∷ drive 55125 0 0x00a00 ∷ drive 55125 7 0x00000 ∷ drive 55125 0 0x04a00 ∷ drive 55125 7 0x00100 ∷ drive 55180 7 0x08100 ∷ drive 55180 0 0x00a00 ∷ drive 55180 7 0x00000 ∷ drive 55180 0 0x04a00 ∷ drive 55180 7 0x00100 ∷ drive 55235 7 0x08100 ∷ drive 55235 0 0x00a00 ∷ drive 55235 7 0x00000 ∷ drive 55235 0 0x04a00 ∷ drive 55235 7 0x00100 ∷ drive 55290 7 0x08100 ∷ drive 55290 0 0x00a00 ∷ drive 55290 7 0x00000 ∷ drive 55290 0 0x04a00 ∷ drive 55290 7 0x00004 ∷ drive 55345 7 0x08004 ∷ drive 55345 0 0x00a00 ∷ drive 55345 7 0x00000 ∷ drive 55345 0 0x04a00 ∷ drive 55345 7 0x00100 ∷ drive 55400 7 0x08100 ∷ drive 55400 0 0x00a00 ∷ drive 55400 7 0x00000 ∷ drive 55400 0 0x01200 ∷ drive 56200 0 0x01300 ∷ drive 56255 0 0x05300 ∷ drive 56255 7 0x08000 ∷ drive 56255 0 0x01300 ∷ drive 56255 7 0x00000 ∷ drive 56310 0 0x05300 ∷ drive 56310 7 0x08000 ∷ drive 56310 0 0x01202 ∷ drive 56310 7 0x00000 ∷ drive 56365 0 0x05202 ∷ drive 56365 7 0x08000 ∷ drive 56365 0 0x01202 ∷ drive 56365 7 0x00000 ∷ drive 56420 0 0x05202 ∷ drive 56420 7 0x08000 ∷ drive 56420 0 0x01200 ∷ drive 56420 7 0x00000 ∷ drive 56420 0 0x01b00 ∷ drive 56820 0 0x05b00 ∷ drive 56820 7 0x08000 ∷ drive 56820 0 0x01a00 ∷ drive 56820 7 0x00000 ∷ drive 56820 0 0x03b00 ∷ drive 57220 0 0x07b00 ∷ drive 57220 7 0x08000 ∷ drive 57220 0 0x03a00 ∷ drive 57220 7 0x00000 ∷ drive 57220 0 0x00000 ∷ drive 58420 7 0x00280 ∷ drive 60820 7 0x00680 ∷ drive 62020 7 0x10782 ∷ drive 62110 7 0x10582 ∷ drive 62510 1 0x00200 ∷ drive 62600 7 0x10000 ∷ drive 62600 1 0x02a00 ∷ drive 63000 1 0x06a00 ∷ drive 63000 7 0x101c0 ∷ drive 63055 7 0x181c0 ∷ drive 63055 1 0x02a00 ∷ drive 63055 7 0x10000 ∷ drive 63055 1 0x06a00 ∷ drive 63055 7 0x10001 ∷ drive 63110 7 0x18001 ∷ drive 63110 1 0x02a00 ∷ drive 63110 7 0x10000 ∷ drive 63110 1 0x06a00 ∷ drive 63110 7 0x10103 ∷ drive 63165 7 0x18103 ∷ drive 63165 1 0x02a00 ∷ drive 63165 7 0x10000 ∷ drive 63165 1 0x06a00 ∷ drive 63165 7 0x10001 ∷ drive 63220 7 0x18001 ∷ drive 63220 1 0x02a00 ∷ drive 63220 7 0x10000 ∷ drive 63220 1 0x06a00 ∷ drive 63220 7 0x10032 ∷ drive 63275 7 0x18032 ∷ drive 63275 1 0x02a00 ∷ drive 63275 7 0x10000 ∷ drive 63275 1 0x06a00 ∷ drive 63275 7 0x00008 ∷ drive 63365 7 0x08008 ∷ drive 63365 1 0x02a00 ∷ drive 63365 7 0x00000 ∷ drive 63365 1 0x03a00 ∷ drive 64165 1 0x03a01 ∷ drive 64220 1 0x07a01 ∷ drive 64220 7 0x08000 ∷ drive 64220 1 0x03b03 ∷ drive 64220 7 0x00000 ∷ drive 64275 1 0x07b03 ∷ drive 64275 7 0x08000 ∷ drive 64275 1 0x03a01 ∷ drive 64275 7 0x00000 ∷ drive 64330 1 0x07a01 ∷ drive 64330 7 0x08000 ∷ drive 64330 1 0x03a32 ∷ drive 64330 7 0x00000 ∷ drive 64385 1 0x07a32 ∷ drive 64385 7 0x08000 ∷ drive 64385 1 0x03a08 ∷ drive 64385 7 0x00000 ∷ drive 64440 1 0x07a08 ∷ drive 64440 7 0x08000 ∷ drive 64440 1 0x03a00 ∷ drive 64440 7 0x00000 ∷ drive 64440 1 0x00a00 ∷ drive 64840 1 0x04a00 ∷ drive 64840 7 0x00112 ∷ drive 64895 7 0x08112 ∷ drive 64895 1 0x00a00 ∷ drive 64895 7 0x00000 ∷ drive 64895 1 0x04a00 ∷ drive 64895 7 0x00100 ∷ drive 64950 7 0x08100 ∷ drive 64950 1 0x00a00 ∷ drive 64950 7 0x00000 ∷ drive 64950 1 0x04a00 ∷ drive 64950 7 0x00100 ∷ drive 65005 7 0x08100 ∷ drive 65005 1 0x00a00 ∷ drive 65005 7 0x00000 ∷ drive 65005 1 0x04a00 ∷ drive 65005 7 0x00100 ∷ drive 65060 7 0x08100 ∷ drive 65060 1 0x00a00 ∷ drive 65060 7 0x00000 ∷ drive 65060 1 0x04a00 ∷ drive 65060 7 0x00004 ∷ drive 65115 7 0x08004 ∷ drive 65115 1 0x00a00 ∷ drive 65115 7 0x00000 ∷ drive 65115 1 0x04a00 ∷ drive 65115 7 0x00100 ∷ drive 65170 7 0x08100 ∷ drive 65170 1 0x00a00 ∷ drive 65170 7 0x00000 ∷ drive 65170 1 0x01200 ∷ drive 65970 1 0x01300 ∷ drive 66025 1 0x05300 ∷ drive 66025 7 0x08000 ∷ drive 66115 7 0x00000 ∷ drive 66115 1 0x01300 ∷ drive 66225 1 0x05300 ∷ drive 66225 7 0x08000 ∷ drive 66315 7 0x00000 ∷ drive 66315 1 0x01300 ∷ drive 66325 1 0x01202 ∷ drive 66425 1 0x05202 ∷ drive 66425 7 0x08000 ∷ drive 66515 7 0x00000 ∷ drive 66515 1 0x01202 ∷ drive 66625 1 0x05202 ∷ drive 66625 7 0x08000 ∷ drive 66715 7 0x00000 ∷ drive 66715 1 0x01202 ∷ drive 66725 1 0x01200 ∷ drive 66725 1 0x01b00 ∷ drive 67125 1 0x05b00 ∷ drive 67125 7 0x08000 ∷ drive 67125 1 0x01a00 ∷ drive 67125 7 0x00000 ∷ drive 67125 1 0x03b00 ∷ drive 67525 1 0x07b00 ∷ drive 67525 7 0x08000 ∷ drive 67525 1 0x03a00 ∷ drive 67525 7 0x00000 ∷ drive 67525 1 0x00000 ∷ []

abbrev device_reset_in_text_one_guard_events : List Event
device_reset_in_text_one_guard_events = events.Aborted 6 0 0 aborts.Device ∷ events.Accept (command 1) ∷ events.Run (command 1) ∷ events.End (command 1) 0 ∷ events.Accept (command 2) ∷ events.Run (command 2) ∷ events.End (command 2) 0 ∷ []

abbrev pub device_reset_in_text_one_guard_shown : Shows
device_reset_in_text_one_guard_shown = record { rows = reverse device_reset_in_text_one_guard_rows; history = reverse device_reset_in_text_one_guard_events; ended = true }

device_reset_in_text_one_guard_run : shown (run_by_due device_reset_in_text_one_guard 212) ≡ device_reset_in_text_one_guard_shown
unfolding need_of sent_of ones union_below line_of form_out form_in least run_from
device_reset_in_text_one_guard_run = refl

-- ---- device_reset_of_one_target_guard

abbrev pub device_reset_of_one_target_guard : ScenarioValue
device_reset_of_one_target_guard = record {
  version = 2;
  hosts = record { dev = 7; latency = 0; most = 1; retries = 2; period = 50; offset = 8; lag = 0; offers = true } ∷ [];
  targets = record { dev = 0; latency = 0; retries = 2; disc = policies.Never; pick = picks.First; seek = 0; period = 50; offset = 8; begins = false } ∷ record { dev = 1; latency = 0; retries = 2; disc = policies.Never; pick = picks.First; seek = 0; period = 50; offset = 8; begins = false } ∷ [];
  units = record { target = 0; unit = 0; blocks = 1; size = 16; depth = 1 } ∷ record { target = 1; unit = 0; blocks = 1; size = 16; depth = 1 } ∷ [];
  fills = [];
  tapes = [];
  loads = [];
  commands = record { host = 7; target = 1; unit = 0; at = 0; tag = tags.Untagged; cdb = (0 ∷ 0 ∷ 0 ∷ 0 ∷ 0 ∷ 0 ∷ []); payload = payloads.Nothing } ∷ record { host = 7; target = 1; unit = 0; at = 50000; tag = tags.Untagged; cdb = (0 ∷ 0 ∷ 0 ∷ 0 ∷ 0 ∷ 0 ∷ []); payload = payloads.Nothing } ∷ [];
  aborts = record { host = 7; target = 0; unit = 0; at = 20000; what = aborts.Device } ∷ [];
  resets = [];
  faults = [];
}

abbrev pub device_reset_of_one_target_guard_rows : List Row
device_reset_of_one_target_guard_rows = drive 1200 7 0x00280 ∷ drive 3600 7 0x00680 ∷ drive 4800 7 0x10782 ∷ drive 4890 7 0x10582 ∷ drive 5290 1 0x00200 ∷ drive 5380 7 0x10000 ∷ drive 5380 1 0x02a00 ∷ drive 5780 1 0x06a00 ∷ drive 5780 7 0x101c0 ∷ drive 5835 7 0x181c0 ∷ drive 5835 1 0x02a00 ∷ drive 5835 7 0x10000 ∷ drive 5835 1 0x06a00 ∷ drive 5835 7 0x10001 ∷ drive 5890 7 0x18001 ∷ drive 5890 1 0x02a00 ∷ drive 5890 7 0x10000 ∷ drive 5890 1 0x06a00 ∷ drive 5890 7 0x10103 ∷ drive 5945 7 0x18103 ∷ drive 5945 1 0x02a00 ∷ drive 5945 7 0x10000 ∷ drive 5945 1 0x06a00 ∷ drive 5945 7 0x10001 ∷ drive 6000 7 0x18001 ∷ drive 6000 1 0x02a00 ∷ drive 6000 7 0x10000 ∷ drive 6000 1 0x06a00 ∷ drive 6000 7 0x10032 ∷ drive 6055 7 0x18032 ∷ drive 6055 1 0x02a00 ∷ drive 6055 7 0x10000 ∷ drive 6055 1 0x06a00 ∷ drive 6055 7 0x00008 ∷ drive 6145 7 0x08008 ∷ drive 6145 1 0x02a00 ∷ drive 6145 7 0x00000 ∷ drive 6145 1 0x03a00 ∷ drive 6945 1 0x03a01 ∷ drive 7000 1 0x07a01 ∷ drive 7000 7 0x08000 ∷ drive 7000 1 0x03b03 ∷ drive 7000 7 0x00000 ∷ drive 7055 1 0x07b03 ∷ drive 7055 7 0x08000 ∷ drive 7055 1 0x03a01 ∷ drive 7055 7 0x00000 ∷ drive 7110 1 0x07a01 ∷ drive 7110 7 0x08000 ∷ drive 7110 1 0x03a32 ∷ drive 7110 7 0x00000 ∷ drive 7165 1 0x07a32 ∷ drive 7165 7 0x08000 ∷ drive 7165 1 0x03a08 ∷ drive 7165 7 0x00000 ∷ drive 7220 1 0x07a08 ∷ drive 7220 7 0x08000 ∷ drive 7220 1 0x03a00 ∷ drive 7220 7 0x00000 ∷ drive 7220 1 0x00a00 ∷ drive 7620 1 0x04a00 ∷ drive 7620 7 0x00100 ∷ drive 7675 7 0x08100 ∷ drive 7675 1 0x00a00 ∷ drive 7675 7 0x00000 ∷ drive 7675 1 0x04a00 ∷ drive 7675 7 0x00100 ∷ drive 7730 7 0x08100 ∷ drive 7730 1 0x00a00 ∷ drive 7730 7 0x00000 ∷ drive 7730 1 0x04a00 ∷ drive 7730 7 0x00100 ∷ drive 7785 7 0x08100 ∷ drive 7785 1 0x00a00 ∷ drive 7785 7 0x00000 ∷ drive 7785 1 0x04a00 ∷ drive 7785 7 0x00100 ∷ drive 7840 7 0x08100 ∷ drive 7840 1 0x00a00 ∷ drive 7840 7 0x00000 ∷ drive 7840 1 0x04a00 ∷ drive 7840 7 0x00100 ∷ drive 7895 7 0x08100 ∷ drive 7895 1 0x00a00 ∷ drive 7895 7 0x00000 ∷ drive 7895 1 0x04a00 ∷ drive 7895 7 0x00100 ∷ drive 7950 7 0x08100 ∷ drive 7950 1 0x00a00 ∷ drive 7950 7 0x00000 ∷ drive 7950 1 0x01a00 ∷ drive 8750 1 0x01b00 ∷ drive 8805 1 0x05b00 ∷ drive 8805 7 0x08000 ∷ drive 8805 1 0x01a00 ∷ drive 8805 7 0x00000 ∷ drive 8805 1 0x03b00 ∷ drive 9205 1 0x07b00 ∷ drive 9205 7 0x08000 ∷ drive 9205 1 0x03a00 ∷ drive 9205 7 0x00000 ∷ drive 9205 1 0x00000 ∷ drive 20000 7 0x00280 ∷ drive 22400 7 0x00680 ∷ drive 23600 7 0x10781 ∷ drive 23690 7 0x10581 ∷ drive 24090 0 0x00200 ∷ drive 24180 7 0x10000 ∷ drive 24180 0 0x02a00 ∷ drive 24580 0 0x06a00 ∷ drive 24580 7 0x10080 ∷ drive 24635 7 0x18080 ∷ drive 24635 0 0x02a00 ∷ drive 24635 7 0x10000 ∷ drive 24635 0 0x06a00 ∷ drive 24635 7 0x0010c ∷ drive 24725 7 0x0810c ∷ drive 24725 0 0x02a00 ∷ drive 24725 7 0x00000 ∷ drive 24725 0 0x00000 ∷ drive 50000 7 0x00280 ∷ drive 52400 7 0x00680 ∷ drive 53600 7 0x10782 ∷ drive 53690 7 0x10582 ∷ drive 54090 1 0x00200 ∷ drive 54180 7 0x10000 ∷ drive 54180 1 0x02a00 ∷ drive 54580 1 0x06a00 ∷ drive 54580 7 0x001c0 ∷ drive 54670 7 0x081c0 ∷ drive 54670 1 0x02a00 ∷ drive 54670 7 0x00000 ∷ drive 54670 1 0x00a00 ∷ drive 55070 1 0x04a00 ∷ drive 55070 7 0x00100 ∷ drive 55125 7 0x08100 ∷ drive 55125 1 0x00a00 ∷ drive 55125 7 0x00000 ∷ drive 55125 1 0x04a00 ∷ drive 55125 7 0x00100 ∷ drive 55180 7 0x08100 ∷ drive 55180 1 0x00a00 ∷ drive 55180 7 0x00000 ∷ drive 55180 1 0x04a00 ∷ drive 55180 7 0x00100 ∷ drive 55235 7 0x08100 ∷ drive 55235 1 0x00a00 ∷ drive 55235 7 0x00000 ∷ drive 55235 1 0x04a00 ∷ drive 55235 7 0x00100 ∷ drive 55290 7 0x08100 ∷ drive 55290 1 0x00a00 ∷ drive 55290 7 0x00000 ∷ drive 55290 1 0x04a00 ∷ drive 55290 7 0x00100 ∷ drive 55345 7 0x08100 ∷ drive 55345 1 0x00a00 ∷ drive 55345 7 0x00000 ∷ drive 55345 1 0x04a00 ∷ drive 55345 7 0x00100 ∷ drive 55400 7 0x08100 ∷ drive 55400 1 0x00a00 ∷ drive 55400 7 0x00000 ∷ drive 55400 1 0x01a00 ∷ drive 56200 1 0x01b00 ∷ drive 56255 1 0x05b00 ∷ drive 56255 7 0x08000 ∷ drive 56255 1 0x01a00 ∷ drive 56255 7 0x00000 ∷ drive 56255 1 0x03b00 ∷ drive 56655 1 0x07b00 ∷ drive 56655 7 0x08000 ∷ drive 56655 1 0x03a00 ∷ drive 56655 7 0x00000 ∷ drive 56655 1 0x00000 ∷ []

abbrev device_reset_of_one_target_guard_events : List Event
device_reset_of_one_target_guard_events = events.Accept (command 1) ∷ events.Run (command 1) ∷ events.End (command 1) 0 ∷ events.Aborted 7 0 0 aborts.Device ∷ events.Accept (command 2) ∷ events.Run (command 2) ∷ events.End (command 2) 0 ∷ []

abbrev pub device_reset_of_one_target_guard_shown : Shows
device_reset_of_one_target_guard_shown = record { rows = reverse device_reset_of_one_target_guard_rows; history = reverse device_reset_of_one_target_guard_events; ended = true }

device_reset_of_one_target_guard_run : shown (run_by_due device_reset_of_one_target_guard 176) ≡ device_reset_of_one_target_guard_shown
unfolding need_of sent_of ones union_below line_of form_out form_in least run_from
device_reset_of_one_target_guard_run = refl

-- ---- disconnect_struck_is_counted_guard

abbrev pub disconnect_struck_is_counted_guard : ScenarioValue
disconnect_struck_is_counted_guard = record {
  version = 1;
  hosts = record { dev = 7; latency = 0; most = 4; retries = 2; period = 0; offset = 0; lag = 0; offers = true } ∷ [];
  targets = record { dev = 0; latency = 0; retries = 1; disc = policies.Command; pick = picks.First; seek = 20000; period = 0; offset = 0; begins = false } ∷ [];
  units = record { target = 0; unit = 0; blocks = 1; size = 16; depth = 4 } ∷ [];
  fills = [];
  tapes = [];
  loads = [];
  commands = record { host = 7; target = 0; unit = 0; at = 0; tag = tags.Simple 1; cdb = (8 ∷ 0 ∷ 0 ∷ 0 ∷ 1 ∷ 0 ∷ []); payload = payloads.Nothing } ∷ [];
  aborts = [];
  resets = [];
  faults = record { at = 7000; bit = 1 } ∷ record { at = 32000; bit = 2 } ∷ [];
}

abbrev pub disconnect_struck_is_counted_guard_rows : List Row
disconnect_struck_is_counted_guard_rows = drive 1200 7 0x00280 ∷ drive 3600 7 0x00680 ∷ drive 4800 7 0x10781 ∷ drive 4890 7 0x10581 ∷ drive 5290 0 0x00200 ∷ drive 5380 7 0x10000 ∷ drive 5380 0 0x02a00 ∷ drive 5780 0 0x06a00 ∷ drive 5780 7 0x101c0 ∷ drive 5835 7 0x181c0 ∷ drive 5835 0 0x02a00 ∷ drive 5835 7 0x10000 ∷ drive 5835 0 0x06a00 ∷ drive 5835 7 0x10020 ∷ drive 5890 7 0x18020 ∷ drive 5890 0 0x02a00 ∷ drive 5890 7 0x10000 ∷ drive 5890 0 0x06a00 ∷ drive 5890 7 0x00001 ∷ drive 5980 7 0x08001 ∷ drive 5980 0 0x02a00 ∷ drive 5980 7 0x00000 ∷ drive 5980 0 0x00a00 ∷ drive 6380 0 0x04a00 ∷ drive 6380 7 0x00008 ∷ drive 6435 7 0x08008 ∷ drive 6435 0 0x00a00 ∷ drive 6435 7 0x00000 ∷ drive 6435 0 0x04a00 ∷ drive 6435 7 0x00100 ∷ drive 6490 7 0x08100 ∷ drive 6490 0 0x00a00 ∷ drive 6490 7 0x00000 ∷ drive 6490 0 0x04a00 ∷ drive 6490 7 0x00100 ∷ drive 6545 7 0x08100 ∷ drive 6545 0 0x00a00 ∷ drive 6545 7 0x00000 ∷ drive 6545 0 0x04a00 ∷ drive 6545 7 0x00100 ∷ drive 6600 7 0x08100 ∷ drive 6600 0 0x00a00 ∷ drive 6600 7 0x00000 ∷ drive 6600 0 0x04a00 ∷ drive 6600 7 0x00001 ∷ drive 6655 7 0x08001 ∷ drive 6655 0 0x00a00 ∷ drive 6655 7 0x00000 ∷ drive 6655 0 0x04a00 ∷ drive 6655 7 0x00100 ∷ drive 6710 7 0x08100 ∷ drive 6710 0 0x00a00 ∷ drive 6710 7 0x00000 ∷ drive 6710 0 0x03a00 ∷ drive 7510 0 0x03a04 ∷ drive 7565 0 0x07a04 ∷ strike 7565 7 1 ∷ drive 7565 7 0x18000 ∷ drive 7565 0 0x03a00 ∷ drive 7655 7 0x10000 ∷ drive 7655 0 0x02a00 ∷ drive 8055 0 0x06a00 ∷ drive 8055 7 0x00109 ∷ drive 8145 7 0x08109 ∷ drive 8145 0 0x02a00 ∷ drive 8145 7 0x00000 ∷ drive 8145 0 0x03a00 ∷ drive 8945 0 0x03a04 ∷ drive 9000 0 0x07a04 ∷ drive 9000 7 0x08000 ∷ drive 9000 0 0x03a00 ∷ drive 9000 7 0x00000 ∷ drive 9000 0 0x00000 ∷ drive 26710 0 0x00201 ∷ drive 29110 0 0x00601 ∷ drive 30310 0 0x01781 ∷ drive 30400 0 0x01581 ∷ drive 30800 7 0x00200 ∷ drive 30800 0 0x01781 ∷ drive 30890 0 0x03a80 ∷ drive 30890 7 0x00000 ∷ drive 31290 0 0x07a80 ∷ drive 31290 7 0x08000 ∷ drive 31290 0 0x03a20 ∷ drive 31290 7 0x00000 ∷ drive 31345 0 0x07a20 ∷ drive 31345 7 0x08000 ∷ drive 31345 0 0x03a01 ∷ drive 31345 7 0x00000 ∷ drive 31400 0 0x07a01 ∷ drive 31400 7 0x08000 ∷ drive 31400 0 0x03a00 ∷ drive 31400 7 0x00000 ∷ drive 31400 0 0x01300 ∷ drive 31800 0 0x05300 ∷ drive 31800 7 0x08000 ∷ drive 31800 0 0x01300 ∷ drive 31800 7 0x00000 ∷ drive 31855 0 0x05300 ∷ drive 31855 7 0x08000 ∷ drive 31855 0 0x01300 ∷ drive 31855 7 0x00000 ∷ drive 31910 0 0x05300 ∷ drive 31910 7 0x08000 ∷ drive 31910 0 0x01300 ∷ drive 31910 7 0x00000 ∷ drive 31965 0 0x05300 ∷ drive 31965 7 0x08000 ∷ drive 31965 0 0x01300 ∷ drive 31965 7 0x00000 ∷ drive 32020 0 0x05300 ∷ strike 32020 7 2 ∷ drive 32020 7 0x18000 ∷ drive 32020 0 0x01300 ∷ drive 32110 7 0x10000 ∷ drive 32110 0 0x05300 ∷ drive 32110 7 0x18000 ∷ drive 32110 0 0x01300 ∷ drive 32110 7 0x10000 ∷ drive 32165 0 0x05300 ∷ drive 32165 7 0x18000 ∷ drive 32165 0 0x01300 ∷ drive 32165 7 0x10000 ∷ drive 32220 0 0x05300 ∷ drive 32220 7 0x18000 ∷ drive 32220 0 0x01300 ∷ drive 32220 7 0x10000 ∷ drive 32275 0 0x05300 ∷ drive 32275 7 0x18000 ∷ drive 32275 0 0x01300 ∷ drive 32275 7 0x10000 ∷ drive 32330 0 0x05300 ∷ drive 32330 7 0x18000 ∷ drive 32330 0 0x01300 ∷ drive 32330 7 0x10000 ∷ drive 32385 0 0x05300 ∷ drive 32385 7 0x18000 ∷ drive 32385 0 0x01300 ∷ drive 32385 7 0x10000 ∷ drive 32440 0 0x05300 ∷ drive 32440 7 0x18000 ∷ drive 32440 0 0x01300 ∷ drive 32440 7 0x10000 ∷ drive 32495 0 0x05300 ∷ drive 32495 7 0x18000 ∷ drive 32495 0 0x01300 ∷ drive 32495 7 0x10000 ∷ drive 32550 0 0x05300 ∷ drive 32550 7 0x18000 ∷ drive 32550 0 0x01300 ∷ drive 32550 7 0x10000 ∷ drive 32605 0 0x05300 ∷ drive 32605 7 0x18000 ∷ drive 32605 0 0x01300 ∷ drive 32605 7 0x10000 ∷ drive 32660 0 0x05300 ∷ drive 32660 7 0x18000 ∷ drive 32660 0 0x01200 ∷ drive 32660 7 0x10000 ∷ drive 32660 0 0x02a00 ∷ drive 33060 0 0x06a00 ∷ drive 33060 7 0x00105 ∷ drive 33150 7 0x08105 ∷ drive 33150 0 0x02a00 ∷ drive 33150 7 0x00000 ∷ drive 33150 0 0x01a00 ∷ drive 33950 0 0x01a02 ∷ drive 34005 0 0x05a02 ∷ drive 34005 7 0x08000 ∷ drive 34005 0 0x01a00 ∷ drive 34005 7 0x00000 ∷ drive 34005 0 0x03b00 ∷ drive 34405 0 0x07b00 ∷ drive 34405 7 0x08000 ∷ drive 34405 0 0x03a00 ∷ drive 34405 7 0x00000 ∷ drive 34405 0 0x00000 ∷ drive 35605 7 0x00280 ∷ drive 38005 7 0x00680 ∷ drive 39205 7 0x10781 ∷ drive 39295 7 0x10581 ∷ drive 39695 0 0x00200 ∷ drive 39785 7 0x10000 ∷ drive 39785 0 0x02a00 ∷ drive 40185 0 0x06a00 ∷ drive 40185 7 0x00080 ∷ drive 40275 7 0x08080 ∷ drive 40275 0 0x02a00 ∷ drive 40275 7 0x00000 ∷ drive 40275 0 0x00a00 ∷ drive 40675 0 0x04a00 ∷ drive 40675 7 0x00103 ∷ drive 40730 7 0x08103 ∷ drive 40730 0 0x00a00 ∷ drive 40730 7 0x00000 ∷ drive 40730 0 0x04a00 ∷ drive 40730 7 0x00100 ∷ drive 40785 7 0x08100 ∷ drive 40785 0 0x00a00 ∷ drive 40785 7 0x00000 ∷ drive 40785 0 0x04a00 ∷ drive 40785 7 0x00100 ∷ drive 40840 7 0x08100 ∷ drive 40840 0 0x00a00 ∷ drive 40840 7 0x00000 ∷ drive 40840 0 0x04a00 ∷ drive 40840 7 0x00100 ∷ drive 40895 7 0x08100 ∷ drive 40895 0 0x00a00 ∷ drive 40895 7 0x00000 ∷ drive 40895 0 0x04a00 ∷ drive 40895 7 0x00112 ∷ drive 40950 7 0x08112 ∷ drive 40950 0 0x00a00 ∷ drive 40950 7 0x00000 ∷ drive 40950 0 0x04a00 ∷ drive 40950 7 0x00100 ∷ drive 41005 7 0x08100 ∷ drive 41005 0 0x00a00 ∷ drive 41005 7 0x00000 ∷ drive 41005 0 0x01200 ∷ drive 41805 0 0x01270 ∷ drive 41860 0 0x05270 ∷ drive 41860 7 0x08000 ∷ drive 41860 0 0x01300 ∷ drive 41860 7 0x00000 ∷ drive 41915 0 0x05300 ∷ drive 41915 7 0x08000 ∷ drive 41915 0 0x0120b ∷ drive 41915 7 0x00000 ∷ drive 41970 0 0x0520b ∷ drive 41970 7 0x08000 ∷ drive 41970 0 0x01300 ∷ drive 41970 7 0x00000 ∷ drive 42025 0 0x05300 ∷ drive 42025 7 0x08000 ∷ drive 42025 0 0x01300 ∷ drive 42025 7 0x00000 ∷ drive 42080 0 0x05300 ∷ drive 42080 7 0x08000 ∷ drive 42080 0 0x01300 ∷ drive 42080 7 0x00000 ∷ drive 42135 0 0x05300 ∷ drive 42135 7 0x08000 ∷ drive 42135 0 0x01300 ∷ drive 42135 7 0x00000 ∷ drive 42190 0 0x05300 ∷ drive 42190 7 0x08000 ∷ drive 42190 0 0x0130a ∷ drive 42190 7 0x00000 ∷ drive 42245 0 0x0530a ∷ drive 42245 7 0x08000 ∷ drive 42245 0 0x01300 ∷ drive 42245 7 0x00000 ∷ drive 42300 0 0x05300 ∷ drive 42300 7 0x08000 ∷ drive 42300 0 0x01300 ∷ drive 42300 7 0x00000 ∷ drive 42355 0 0x05300 ∷ drive 42355 7 0x08000 ∷ drive 42355 0 0x01300 ∷ drive 42355 7 0x00000 ∷ drive 42410 0 0x05300 ∷ drive 42410 7 0x08000 ∷ drive 42410 0 0x01300 ∷ drive 42410 7 0x00000 ∷ drive 42465 0 0x05300 ∷ drive 42465 7 0x08000 ∷ drive 42465 0 0x01348 ∷ drive 42465 7 0x00000 ∷ drive 42520 0 0x05348 ∷ drive 42520 7 0x08000 ∷ drive 42520 0 0x01300 ∷ drive 42520 7 0x00000 ∷ drive 42575 0 0x05300 ∷ drive 42575 7 0x08000 ∷ drive 42575 0 0x01300 ∷ drive 42575 7 0x00000 ∷ drive 42630 0 0x05300 ∷ drive 42630 7 0x08000 ∷ drive 42630 0 0x01300 ∷ drive 42630 7 0x00000 ∷ drive 42685 0 0x05300 ∷ drive 42685 7 0x08000 ∷ drive 42685 0 0x01300 ∷ drive 42685 7 0x00000 ∷ drive 42740 0 0x05300 ∷ drive 42740 7 0x08000 ∷ drive 42740 0 0x01300 ∷ drive 42740 7 0x00000 ∷ drive 42795 0 0x05300 ∷ drive 42795 7 0x08000 ∷ drive 42795 0 0x01200 ∷ drive 42795 7 0x00000 ∷ drive 42795 0 0x01b00 ∷ drive 43195 0 0x05b00 ∷ drive 43195 7 0x08000 ∷ drive 43195 0 0x01a00 ∷ drive 43195 7 0x00000 ∷ drive 43195 0 0x03b00 ∷ drive 43595 0 0x07b00 ∷ drive 43595 7 0x08000 ∷ drive 43595 0 0x03a00 ∷ drive 43595 7 0x00000 ∷ drive 43595 0 0x00000 ∷ []

abbrev disconnect_struck_is_counted_guard_events : List Event
disconnect_struck_is_counted_guard_events = events.Accept (command 1) ∷ events.Fail (command 1) 72 ∷ events.End (command 1) 2 ∷ events.Accept (sense 1) ∷ events.Run (sense 1) ∷ events.End (sense 1) 0 ∷ []

abbrev pub disconnect_struck_is_counted_guard_shown : Shows
disconnect_struck_is_counted_guard_shown = record { rows = reverse disconnect_struck_is_counted_guard_rows; history = reverse disconnect_struck_is_counted_guard_events; ended = true }

disconnect_struck_is_counted_guard_run : shown (run_by_due disconnect_struck_is_counted_guard 306) ≡ disconnect_struck_is_counted_guard_shown
unfolding need_of sent_of ones union_below line_of form_out form_in least run_from
disconnect_struck_is_counted_guard_run = refl

-- ---- faulty_inquiry_of_no_unit_guard

abbrev pub faulty_inquiry_of_no_unit_guard : ScenarioValue
faulty_inquiry_of_no_unit_guard = record {
  version = 1;
  hosts = record { dev = 7; latency = 0; most = 4; retries = 2; period = 0; offset = 0; lag = 0; offers = true } ∷ [];
  targets = record { dev = 0; latency = 0; retries = 2; disc = policies.Never; pick = picks.First; seek = 0; period = 0; offset = 0; begins = false } ∷ [];
  units = record { target = 0; unit = 0; blocks = 1; size = 16; depth = 4 } ∷ [];
  fills = [];
  tapes = [];
  loads = [];
  commands = record { host = 7; target = 0; unit = 3; at = 0; tag = tags.Untagged; cdb = (18 ∷ 0 ∷ 0 ∷ 0 ∷ 36 ∷ 1 ∷ []); payload = payloads.Nothing } ∷ record { host = 7; target = 0; unit = 3; at = 0; tag = tags.Untagged; cdb = (3 ∷ 0 ∷ 0 ∷ 0 ∷ 18 ∷ 1 ∷ []); payload = payloads.Nothing } ∷ record { host = 7; target = 0; unit = 0; at = 0; tag = tags.Untagged; cdb = (40 ∷ 0 ∷ 0 ∷ 0 ∷ 0 ∷ 1 ∷ 0 ∷ 0 ∷ 0 ∷ 0 ∷ []); payload = payloads.Nothing } ∷ [];
  aborts = [];
  resets = [];
  faults = [];
}

abbrev pub faulty_inquiry_of_no_unit_guard_rows : List Row
faulty_inquiry_of_no_unit_guard_rows = drive 1200 7 0x00280 ∷ drive 3600 7 0x00680 ∷ drive 4800 7 0x10781 ∷ drive 4890 7 0x10581 ∷ drive 5290 0 0x00200 ∷ drive 5380 7 0x10000 ∷ drive 5380 0 0x02a00 ∷ drive 5780 0 0x06a00 ∷ drive 5780 7 0x001c3 ∷ drive 5870 7 0x081c3 ∷ drive 5870 0 0x02a00 ∷ drive 5870 7 0x00000 ∷ drive 5870 0 0x00a00 ∷ drive 6270 0 0x04a00 ∷ drive 6270 7 0x00112 ∷ drive 6325 7 0x08112 ∷ drive 6325 0 0x00a00 ∷ drive 6325 7 0x00000 ∷ drive 6325 0 0x04a00 ∷ drive 6325 7 0x00100 ∷ drive 6380 7 0x08100 ∷ drive 6380 0 0x00a00 ∷ drive 6380 7 0x00000 ∷ drive 6380 0 0x04a00 ∷ drive 6380 7 0x00100 ∷ drive 6435 7 0x08100 ∷ drive 6435 0 0x00a00 ∷ drive 6435 7 0x00000 ∷ drive 6435 0 0x04a00 ∷ drive 6435 7 0x00100 ∷ drive 6490 7 0x08100 ∷ drive 6490 0 0x00a00 ∷ drive 6490 7 0x00000 ∷ drive 6490 0 0x04a00 ∷ drive 6490 7 0x00124 ∷ drive 6545 7 0x08124 ∷ drive 6545 0 0x00a00 ∷ drive 6545 7 0x00000 ∷ drive 6545 0 0x04a00 ∷ drive 6545 7 0x00001 ∷ drive 6600 7 0x08001 ∷ drive 6600 0 0x00a00 ∷ drive 6600 7 0x00000 ∷ drive 6600 0 0x01a00 ∷ drive 7400 0 0x01a02 ∷ drive 7455 0 0x05a02 ∷ drive 7455 7 0x08000 ∷ drive 7455 0 0x01a00 ∷ drive 7455 7 0x00000 ∷ drive 7455 0 0x03b00 ∷ drive 7855 0 0x07b00 ∷ drive 7855 7 0x08000 ∷ drive 7855 0 0x03a00 ∷ drive 7855 7 0x00000 ∷ drive 7855 0 0x00000 ∷ drive 9055 7 0x00280 ∷ drive 11455 7 0x00680 ∷ drive 12655 7 0x10781 ∷ drive 12745 7 0x10581 ∷ drive 13145 0 0x00200 ∷ drive 13235 7 0x10000 ∷ drive 13235 0 0x02a00 ∷ drive 13635 0 0x06a00 ∷ drive 13635 7 0x00083 ∷ drive 13725 7 0x08083 ∷ drive 13725 0 0x02a00 ∷ drive 13725 7 0x00000 ∷ drive 13725 0 0x00a00 ∷ drive 14125 0 0x04a00 ∷ drive 14125 7 0x00103 ∷ drive 14180 7 0x08103 ∷ drive 14180 0 0x00a00 ∷ drive 14180 7 0x00000 ∷ drive 14180 0 0x04a00 ∷ drive 14180 7 0x00100 ∷ drive 14235 7 0x08100 ∷ drive 14235 0 0x00a00 ∷ drive 14235 7 0x00000 ∷ drive 14235 0 0x04a00 ∷ drive 14235 7 0x00100 ∷ drive 14290 7 0x08100 ∷ drive 14290 0 0x00a00 ∷ drive 14290 7 0x00000 ∷ drive 14290 0 0x04a00 ∷ drive 14290 7 0x00100 ∷ drive 14345 7 0x08100 ∷ drive 14345 0 0x00a00 ∷ drive 14345 7 0x00000 ∷ drive 14345 0 0x04a00 ∷ drive 14345 7 0x00112 ∷ drive 14400 7 0x08112 ∷ drive 14400 0 0x00a00 ∷ drive 14400 7 0x00000 ∷ drive 14400 0 0x04a00 ∷ drive 14400 7 0x00100 ∷ drive 14455 7 0x08100 ∷ drive 14455 0 0x00a00 ∷ drive 14455 7 0x00000 ∷ drive 14455 0 0x01200 ∷ drive 15255 0 0x01270 ∷ drive 15310 0 0x05270 ∷ drive 15310 7 0x08000 ∷ drive 15310 0 0x01300 ∷ drive 15310 7 0x00000 ∷ drive 15365 0 0x05300 ∷ drive 15365 7 0x08000 ∷ drive 15365 0 0x01305 ∷ drive 15365 7 0x00000 ∷ drive 15420 0 0x05305 ∷ drive 15420 7 0x08000 ∷ drive 15420 0 0x01300 ∷ drive 15420 7 0x00000 ∷ drive 15475 0 0x05300 ∷ drive 15475 7 0x08000 ∷ drive 15475 0 0x01300 ∷ drive 15475 7 0x00000 ∷ drive 15530 0 0x05300 ∷ drive 15530 7 0x08000 ∷ drive 15530 0 0x01300 ∷ drive 15530 7 0x00000 ∷ drive 15585 0 0x05300 ∷ drive 15585 7 0x08000 ∷ drive 15585 0 0x01300 ∷ drive 15585 7 0x00000 ∷ drive 15640 0 0x05300 ∷ drive 15640 7 0x08000 ∷ drive 15640 0 0x0130a ∷ drive 15640 7 0x00000 ∷ drive 15695 0 0x0530a ∷ drive 15695 7 0x08000 ∷ drive 15695 0 0x01300 ∷ drive 15695 7 0x00000 ∷ drive 15750 0 0x05300 ∷ drive 15750 7 0x08000 ∷ drive 15750 0 0x01300 ∷ drive 15750 7 0x00000 ∷ drive 15805 0 0x05300 ∷ drive 15805 7 0x08000 ∷ drive 15805 0 0x01300 ∷ drive 15805 7 0x00000 ∷ drive 15860 0 0x05300 ∷ drive 15860 7 0x08000 ∷ drive 15860 0 0x01300 ∷ drive 15860 7 0x00000 ∷ drive 15915 0 0x05300 ∷ drive 15915 7 0x08000 ∷ drive 15915 0 0x01324 ∷ drive 15915 7 0x00000 ∷ drive 15970 0 0x05324 ∷ drive 15970 7 0x08000 ∷ drive 15970 0 0x01300 ∷ drive 15970 7 0x00000 ∷ drive 16025 0 0x05300 ∷ drive 16025 7 0x08000 ∷ drive 16025 0 0x01300 ∷ drive 16025 7 0x00000 ∷ drive 16080 0 0x05300 ∷ drive 16080 7 0x08000 ∷ drive 16080 0 0x01300 ∷ drive 16080 7 0x00000 ∷ drive 16135 0 0x05300 ∷ drive 16135 7 0x08000 ∷ drive 16135 0 0x01300 ∷ drive 16135 7 0x00000 ∷ drive 16190 0 0x05300 ∷ drive 16190 7 0x08000 ∷ drive 16190 0 0x01300 ∷ drive 16190 7 0x00000 ∷ drive 16245 0 0x05300 ∷ drive 16245 7 0x08000 ∷ drive 16245 0 0x01200 ∷ drive 16245 7 0x00000 ∷ drive 16245 0 0x01b00 ∷ drive 16645 0 0x05b00 ∷ drive 16645 7 0x08000 ∷ drive 16645 0 0x01a00 ∷ drive 16645 7 0x00000 ∷ drive 16645 0 0x03b00 ∷ drive 17045 0 0x07b00 ∷ drive 17045 7 0x08000 ∷ drive 17045 0 0x03a00 ∷ drive 17045 7 0x00000 ∷ drive 17045 0 0x00000 ∷ drive 18245 7 0x00280 ∷ drive 20645 7 0x00680 ∷ drive 21845 7 0x10781 ∷ drive 21935 7 0x10581 ∷ drive 22335 0 0x00200 ∷ drive 22425 7 0x10000 ∷ drive 22425 0 0x02a00 ∷ drive 22825 0 0x06a00 ∷ drive 22825 7 0x001c3 ∷ drive 22915 7 0x081c3 ∷ drive 22915 0 0x02a00 ∷ drive 22915 7 0x00000 ∷ drive 22915 0 0x00a00 ∷ drive 23315 0 0x04a00 ∷ drive 23315 7 0x00103 ∷ drive 23370 7 0x08103 ∷ drive 23370 0 0x00a00 ∷ drive 23370 7 0x00000 ∷ drive 23370 0 0x04a00 ∷ drive 23370 7 0x00100 ∷ drive 23425 7 0x08100 ∷ drive 23425 0 0x00a00 ∷ drive 23425 7 0x00000 ∷ drive 23425 0 0x04a00 ∷ drive 23425 7 0x00100 ∷ drive 23480 7 0x08100 ∷ drive 23480 0 0x00a00 ∷ drive 23480 7 0x00000 ∷ drive 23480 0 0x04a00 ∷ drive 23480 7 0x00100 ∷ drive 23535 7 0x08100 ∷ drive 23535 0 0x00a00 ∷ drive 23535 7 0x00000 ∷ drive 23535 0 0x04a00 ∷ drive 23535 7 0x00112 ∷ drive 23590 7 0x08112 ∷ drive 23590 0 0x00a00 ∷ drive 23590 7 0x00000 ∷ drive 23590 0 0x04a00 ∷ drive 23590 7 0x00001 ∷ drive 23645 7 0x08001 ∷ drive 23645 0 0x00a00 ∷ drive 23645 7 0x00000 ∷ drive 23645 0 0x01a00 ∷ drive 24445 0 0x01a02 ∷ drive 24500 0 0x05a02 ∷ drive 24500 7 0x08000 ∷ drive 24500 0 0x01a00 ∷ drive 24500 7 0x00000 ∷ drive 24500 0 0x03b00 ∷ drive 24900 0 0x07b00 ∷ drive 24900 7 0x08000 ∷ drive 24900 0 0x03a00 ∷ drive 24900 7 0x00000 ∷ drive 24900 0 0x00000 ∷ drive 26100 7 0x00280 ∷ drive 28500 7 0x00680 ∷ drive 29700 7 0x10781 ∷ drive 29790 7 0x10581 ∷ drive 30190 0 0x00200 ∷ drive 30280 7 0x10000 ∷ drive 30280 0 0x02a00 ∷ drive 30680 0 0x06a00 ∷ drive 30680 7 0x00083 ∷ drive 30770 7 0x08083 ∷ drive 30770 0 0x02a00 ∷ drive 30770 7 0x00000 ∷ drive 30770 0 0x00a00 ∷ drive 31170 0 0x04a00 ∷ drive 31170 7 0x00103 ∷ drive 31225 7 0x08103 ∷ drive 31225 0 0x00a00 ∷ drive 31225 7 0x00000 ∷ drive 31225 0 0x04a00 ∷ drive 31225 7 0x00100 ∷ drive 31280 7 0x08100 ∷ drive 31280 0 0x00a00 ∷ drive 31280 7 0x00000 ∷ drive 31280 0 0x04a00 ∷ drive 31280 7 0x00100 ∷ drive 31335 7 0x08100 ∷ drive 31335 0 0x00a00 ∷ drive 31335 7 0x00000 ∷ drive 31335 0 0x04a00 ∷ drive 31335 7 0x00100 ∷ drive 31390 7 0x08100 ∷ drive 31390 0 0x00a00 ∷ drive 31390 7 0x00000 ∷ drive 31390 0 0x04a00 ∷ drive 31390 7 0x00112 ∷ drive 31445 7 0x08112 ∷ drive 31445 0 0x00a00 ∷ drive 31445 7 0x00000 ∷ drive 31445 0 0x04a00 ∷ drive 31445 7 0x00100 ∷ drive 31500 7 0x08100 ∷ drive 31500 0 0x00a00 ∷ drive 31500 7 0x00000 ∷ drive 31500 0 0x01200 ∷ drive 32300 0 0x01270 ∷ drive 32355 0 0x05270 ∷ drive 32355 7 0x08000 ∷ drive 32355 0 0x01300 ∷ drive 32355 7 0x00000 ∷ drive 32410 0 0x05300 ∷ drive 32410 7 0x08000 ∷ drive 32410 0 0x01305 ∷ drive 32410 7 0x00000 ∷ drive 32465 0 0x05305 ∷ drive 32465 7 0x08000 ∷ drive 32465 0 0x01300 ∷ drive 32465 7 0x00000 ∷ drive 32520 0 0x05300 ∷ drive 32520 7 0x08000 ∷ drive 32520 0 0x01300 ∷ drive 32520 7 0x00000 ∷ drive 32575 0 0x05300 ∷ drive 32575 7 0x08000 ∷ drive 32575 0 0x01300 ∷ drive 32575 7 0x00000 ∷ drive 32630 0 0x05300 ∷ drive 32630 7 0x08000 ∷ drive 32630 0 0x01300 ∷ drive 32630 7 0x00000 ∷ drive 32685 0 0x05300 ∷ drive 32685 7 0x08000 ∷ drive 32685 0 0x0130a ∷ drive 32685 7 0x00000 ∷ drive 32740 0 0x0530a ∷ drive 32740 7 0x08000 ∷ drive 32740 0 0x01300 ∷ drive 32740 7 0x00000 ∷ drive 32795 0 0x05300 ∷ drive 32795 7 0x08000 ∷ drive 32795 0 0x01300 ∷ drive 32795 7 0x00000 ∷ drive 32850 0 0x05300 ∷ drive 32850 7 0x08000 ∷ drive 32850 0 0x01300 ∷ drive 32850 7 0x00000 ∷ drive 32905 0 0x05300 ∷ drive 32905 7 0x08000 ∷ drive 32905 0 0x01300 ∷ drive 32905 7 0x00000 ∷ drive 32960 0 0x05300 ∷ drive 32960 7 0x08000 ∷ drive 32960 0 0x01225 ∷ drive 32960 7 0x00000 ∷ drive 33015 0 0x05225 ∷ drive 33015 7 0x08000 ∷ drive 33015 0 0x01300 ∷ drive 33015 7 0x00000 ∷ drive 33070 0 0x05300 ∷ drive 33070 7 0x08000 ∷ drive 33070 0 0x01300 ∷ drive 33070 7 0x00000 ∷ drive 33125 0 0x05300 ∷ drive 33125 7 0x08000 ∷ drive 33125 0 0x01300 ∷ drive 33125 7 0x00000 ∷ drive 33180 0 0x05300 ∷ drive 33180 7 0x08000 ∷ drive 33180 0 0x01300 ∷ drive 33180 7 0x00000 ∷ drive 33235 0 0x05300 ∷ drive 33235 7 0x08000 ∷ drive 33235 0 0x01300 ∷ drive 33235 7 0x00000 ∷ drive 33290 0 0x05300 ∷ drive 33290 7 0x08000 ∷ drive 33290 0 0x01200 ∷ drive 33290 7 0x00000 ∷ drive 33290 0 0x01b00 ∷ drive 33690 0 0x05b00 ∷ drive 33690 7 0x08000 ∷ drive 33690 0 0x01a00 ∷ drive 33690 7 0x00000 ∷ drive 33690 0 0x03b00 ∷ drive 34090 0 0x07b00 ∷ drive 34090 7 0x08000 ∷ drive 34090 0 0x03a00 ∷ drive 34090 7 0x00000 ∷ drive 34090 0 0x00000 ∷ drive 35290 7 0x00280 ∷ drive 37690 7 0x00680 ∷ drive 38890 7 0x10781 ∷ drive 38980 7 0x10581 ∷ drive 39380 0 0x00200 ∷ drive 39470 7 0x10000 ∷ drive 39470 0 0x02a00 ∷ drive 39870 0 0x06a00 ∷ drive 39870 7 0x001c0 ∷ drive 39960 7 0x081c0 ∷ drive 39960 0 0x02a00 ∷ drive 39960 7 0x00000 ∷ drive 39960 0 0x00a00 ∷ drive 40360 0 0x04a00 ∷ drive 40360 7 0x00128 ∷ drive 40415 7 0x08128 ∷ drive 40415 0 0x00a00 ∷ drive 40415 7 0x00000 ∷ drive 40415 0 0x04a00 ∷ drive 40415 7 0x00100 ∷ drive 40470 7 0x08100 ∷ drive 40470 0 0x00a00 ∷ drive 40470 7 0x00000 ∷ drive 40470 0 0x04a00 ∷ drive 40470 7 0x00100 ∷ drive 40525 7 0x08100 ∷ drive 40525 0 0x00a00 ∷ drive 40525 7 0x00000 ∷ drive 40525 0 0x04a00 ∷ drive 40525 7 0x00100 ∷ drive 40580 7 0x08100 ∷ drive 40580 0 0x00a00 ∷ drive 40580 7 0x00000 ∷ drive 40580 0 0x04a00 ∷ drive 40580 7 0x00100 ∷ drive 40635 7 0x08100 ∷ drive 40635 0 0x00a00 ∷ drive 40635 7 0x00000 ∷ drive 40635 0 0x04a00 ∷ drive 40635 7 0x00001 ∷ drive 40690 7 0x08001 ∷ drive 40690 0 0x00a00 ∷ drive 40690 7 0x00000 ∷ drive 40690 0 0x04a00 ∷ drive 40690 7 0x00100 ∷ drive 40745 7 0x08100 ∷ drive 40745 0 0x00a00 ∷ drive 40745 7 0x00000 ∷ drive 40745 0 0x04a00 ∷ drive 40745 7 0x00100 ∷ drive 40800 7 0x08100 ∷ drive 40800 0 0x00a00 ∷ drive 40800 7 0x00000 ∷ drive 40800 0 0x04a00 ∷ drive 40800 7 0x00100 ∷ drive 40855 7 0x08100 ∷ drive 40855 0 0x00a00 ∷ drive 40855 7 0x00000 ∷ drive 40855 0 0x04a00 ∷ drive 40855 7 0x00100 ∷ drive 40910 7 0x08100 ∷ drive 40910 0 0x00a00 ∷ drive 40910 7 0x00000 ∷ drive 40910 0 0x01a00 ∷ drive 41710 0 0x01a02 ∷ drive 41765 0 0x05a02 ∷ drive 41765 7 0x08000 ∷ drive 41765 0 0x01a00 ∷ drive 41765 7 0x00000 ∷ drive 41765 0 0x03b00 ∷ drive 42165 0 0x07b00 ∷ drive 42165 7 0x08000 ∷ drive 42165 0 0x03a00 ∷ drive 42165 7 0x00000 ∷ drive 42165 0 0x00000 ∷ drive 43365 7 0x00280 ∷ drive 45765 7 0x00680 ∷ drive 46965 7 0x10781 ∷ drive 47055 7 0x10581 ∷ drive 47455 0 0x00200 ∷ drive 47545 7 0x10000 ∷ drive 47545 0 0x02a00 ∷ drive 47945 0 0x06a00 ∷ drive 47945 7 0x00080 ∷ drive 48035 7 0x08080 ∷ drive 48035 0 0x02a00 ∷ drive 48035 7 0x00000 ∷ drive 48035 0 0x00a00 ∷ drive 48435 0 0x04a00 ∷ drive 48435 7 0x00103 ∷ drive 48490 7 0x08103 ∷ drive 48490 0 0x00a00 ∷ drive 48490 7 0x00000 ∷ drive 48490 0 0x04a00 ∷ drive 48490 7 0x00100 ∷ drive 48545 7 0x08100 ∷ drive 48545 0 0x00a00 ∷ drive 48545 7 0x00000 ∷ drive 48545 0 0x04a00 ∷ drive 48545 7 0x00100 ∷ drive 48600 7 0x08100 ∷ drive 48600 0 0x00a00 ∷ drive 48600 7 0x00000 ∷ drive 48600 0 0x04a00 ∷ drive 48600 7 0x00100 ∷ drive 48655 7 0x08100 ∷ drive 48655 0 0x00a00 ∷ drive 48655 7 0x00000 ∷ drive 48655 0 0x04a00 ∷ drive 48655 7 0x00112 ∷ drive 48710 7 0x08112 ∷ drive 48710 0 0x00a00 ∷ drive 48710 7 0x00000 ∷ drive 48710 0 0x04a00 ∷ drive 48710 7 0x00100 ∷ drive 48765 7 0x08100 ∷ drive 48765 0 0x00a00 ∷ drive 48765 7 0x00000 ∷ drive 48765 0 0x01200 ∷ drive 49565 0 0x01270 ∷ drive 49620 0 0x05270 ∷ drive 49620 7 0x08000 ∷ drive 49620 0 0x01300 ∷ drive 49620 7 0x00000 ∷ drive 49675 0 0x05300 ∷ drive 49675 7 0x08000 ∷ drive 49675 0 0x01305 ∷ drive 49675 7 0x00000 ∷ drive 49730 0 0x05305 ∷ drive 49730 7 0x08000 ∷ drive 49730 0 0x01300 ∷ drive 49730 7 0x00000 ∷ drive 49785 0 0x05300 ∷ drive 49785 7 0x08000 ∷ drive 49785 0 0x01300 ∷ drive 49785 7 0x00000 ∷ drive 49840 0 0x05300 ∷ drive 49840 7 0x08000 ∷ drive 49840 0 0x01300 ∷ drive 49840 7 0x00000 ∷ drive 49895 0 0x05300 ∷ drive 49895 7 0x08000 ∷ drive 49895 0 0x01300 ∷ drive 49895 7 0x00000 ∷ drive 49950 0 0x05300 ∷ drive 49950 7 0x08000 ∷ drive 49950 0 0x0130a ∷ drive 49950 7 0x00000 ∷ drive 50005 0 0x0530a ∷ drive 50005 7 0x08000 ∷ drive 50005 0 0x01300 ∷ drive 50005 7 0x00000 ∷ drive 50060 0 0x05300 ∷ drive 50060 7 0x08000 ∷ drive 50060 0 0x01300 ∷ drive 50060 7 0x00000 ∷ drive 50115 0 0x05300 ∷ drive 50115 7 0x08000 ∷ drive 50115 0 0x01300 ∷ drive 50115 7 0x00000 ∷ drive 50170 0 0x05300 ∷ drive 50170 7 0x08000 ∷ drive 50170 0 0x01300 ∷ drive 50170 7 0x00000 ∷ drive 50225 0 0x05300 ∷ drive 50225 7 0x08000 ∷ drive 50225 0 0x01321 ∷ drive 50225 7 0x00000 ∷ drive 50280 0 0x05321 ∷ drive 50280 7 0x08000 ∷ drive 50280 0 0x01300 ∷ drive 50280 7 0x00000 ∷ drive 50335 0 0x05300 ∷ drive 50335 7 0x08000 ∷ drive 50335 0 0x01300 ∷ drive 50335 7 0x00000 ∷ drive 50390 0 0x05300 ∷ drive 50390 7 0x08000 ∷ drive 50390 0 0x01300 ∷ drive 50390 7 0x00000 ∷ drive 50445 0 0x05300 ∷ drive 50445 7 0x08000 ∷ drive 50445 0 0x01300 ∷ drive 50445 7 0x00000 ∷ drive 50500 0 0x05300 ∷ drive 50500 7 0x08000 ∷ drive 50500 0 0x01300 ∷ drive 50500 7 0x00000 ∷ drive 50555 0 0x05300 ∷ drive 50555 7 0x08000 ∷ drive 50555 0 0x01200 ∷ drive 50555 7 0x00000 ∷ drive 50555 0 0x01b00 ∷ drive 50955 0 0x05b00 ∷ drive 50955 7 0x08000 ∷ drive 50955 0 0x01a00 ∷ drive 50955 7 0x00000 ∷ drive 50955 0 0x03b00 ∷ drive 51355 0 0x07b00 ∷ drive 51355 7 0x08000 ∷ drive 51355 0 0x03a00 ∷ drive 51355 7 0x00000 ∷ drive 51355 0 0x00000 ∷ []

abbrev faulty_inquiry_of_no_unit_guard_events : List Event
faulty_inquiry_of_no_unit_guard_events = events.Accept (command 1) ∷ events.Run (command 1) ∷ events.End (command 1) 2 ∷ events.Accept (sense 1) ∷ events.Run (sense 1) ∷ events.End (sense 1) 0 ∷ events.Accept (command 2) ∷ events.Run (command 2) ∷ events.End (command 2) 2 ∷ events.Accept (sense 2) ∷ events.Run (sense 2) ∷ events.End (sense 2) 0 ∷ events.Accept (command 3) ∷ events.Run (command 3) ∷ events.End (command 3) 2 ∷ events.Accept (sense 3) ∷ events.Run (sense 3) ∷ events.End (sense 3) 0 ∷ []

abbrev pub faulty_inquiry_of_no_unit_guard_shown : Shows
faulty_inquiry_of_no_unit_guard_shown = record { rows = reverse faulty_inquiry_of_no_unit_guard_rows; history = reverse faulty_inquiry_of_no_unit_guard_events; ended = true }

faulty_inquiry_of_no_unit_guard_run : shown (run_by_due faulty_inquiry_of_no_unit_guard 570) ≡ faulty_inquiry_of_no_unit_guard_shown
unfolding need_of sent_of ones union_below line_of form_out form_in least run_from
faulty_inquiry_of_no_unit_guard_run = refl

-- ---- faulty_inquiry_with_attention_guard

abbrev pub faulty_inquiry_with_attention_guard : ScenarioValue
faulty_inquiry_with_attention_guard = record {
  version = 1;
  hosts = record { dev = 7; latency = 0; most = 4; retries = 2; period = 0; offset = 0; lag = 0; offers = true } ∷ [];
  targets = record { dev = 0; latency = 0; retries = 2; disc = policies.Never; pick = picks.First; seek = 0; period = 0; offset = 0; begins = false } ∷ [];
  units = record { target = 0; unit = 0; blocks = 1; size = 16; depth = 4 } ∷ [];
  fills = [];
  tapes = [];
  loads = [];
  commands = record { host = 7; target = 0; unit = 0; at = 60000; tag = tags.Untagged; cdb = (18 ∷ 0 ∷ 0 ∷ 0 ∷ 36 ∷ 1 ∷ []); payload = payloads.Nothing } ∷ record { host = 7; target = 0; unit = 0; at = 60000; tag = tags.Untagged; cdb = (0 ∷ 0 ∷ 0 ∷ 0 ∷ 0 ∷ 0 ∷ []); payload = payloads.Nothing } ∷ [];
  aborts = [];
  resets = record { dev = 7; at = 1000 } ∷ [];
  faults = [];
}

abbrev pub faulty_inquiry_with_attention_guard_rows : List Row
faulty_inquiry_with_attention_guard_rows = drive 1000 7 0x20000 ∷ drive 26000 7 0x00000 ∷ drive 60000 7 0x00280 ∷ drive 62400 7 0x00680 ∷ drive 63600 7 0x10781 ∷ drive 63690 7 0x10581 ∷ drive 64090 0 0x00200 ∷ drive 64180 7 0x10000 ∷ drive 64180 0 0x02a00 ∷ drive 64580 0 0x06a00 ∷ drive 64580 7 0x001c0 ∷ drive 64670 7 0x081c0 ∷ drive 64670 0 0x02a00 ∷ drive 64670 7 0x00000 ∷ drive 64670 0 0x00a00 ∷ drive 65070 0 0x04a00 ∷ drive 65070 7 0x00112 ∷ drive 65125 7 0x08112 ∷ drive 65125 0 0x00a00 ∷ drive 65125 7 0x00000 ∷ drive 65125 0 0x04a00 ∷ drive 65125 7 0x00100 ∷ drive 65180 7 0x08100 ∷ drive 65180 0 0x00a00 ∷ drive 65180 7 0x00000 ∷ drive 65180 0 0x04a00 ∷ drive 65180 7 0x00100 ∷ drive 65235 7 0x08100 ∷ drive 65235 0 0x00a00 ∷ drive 65235 7 0x00000 ∷ drive 65235 0 0x04a00 ∷ drive 65235 7 0x00100 ∷ drive 65290 7 0x08100 ∷ drive 65290 0 0x00a00 ∷ drive 65290 7 0x00000 ∷ drive 65290 0 0x04a00 ∷ drive 65290 7 0x00124 ∷ drive 65345 7 0x08124 ∷ drive 65345 0 0x00a00 ∷ drive 65345 7 0x00000 ∷ drive 65345 0 0x04a00 ∷ drive 65345 7 0x00001 ∷ drive 65400 7 0x08001 ∷ drive 65400 0 0x00a00 ∷ drive 65400 7 0x00000 ∷ drive 65400 0 0x01a00 ∷ drive 66200 0 0x01a02 ∷ drive 66255 0 0x05a02 ∷ drive 66255 7 0x08000 ∷ drive 66255 0 0x01a00 ∷ drive 66255 7 0x00000 ∷ drive 66255 0 0x03b00 ∷ drive 66655 0 0x07b00 ∷ drive 66655 7 0x08000 ∷ drive 66655 0 0x03a00 ∷ drive 66655 7 0x00000 ∷ drive 66655 0 0x00000 ∷ drive 67855 7 0x00280 ∷ drive 70255 7 0x00680 ∷ drive 71455 7 0x10781 ∷ drive 71545 7 0x10581 ∷ drive 71945 0 0x00200 ∷ drive 72035 7 0x10000 ∷ drive 72035 0 0x02a00 ∷ drive 72435 0 0x06a00 ∷ drive 72435 7 0x00080 ∷ drive 72525 7 0x08080 ∷ drive 72525 0 0x02a00 ∷ drive 72525 7 0x00000 ∷ drive 72525 0 0x00a00 ∷ drive 72925 0 0x04a00 ∷ drive 72925 7 0x00103 ∷ drive 72980 7 0x08103 ∷ drive 72980 0 0x00a00 ∷ drive 72980 7 0x00000 ∷ drive 72980 0 0x04a00 ∷ drive 72980 7 0x00100 ∷ drive 73035 7 0x08100 ∷ drive 73035 0 0x00a00 ∷ drive 73035 7 0x00000 ∷ drive 73035 0 0x04a00 ∷ drive 73035 7 0x00100 ∷ drive 73090 7 0x08100 ∷ drive 73090 0 0x00a00 ∷ drive 73090 7 0x00000 ∷ drive 73090 0 0x04a00 ∷ drive 73090 7 0x00100 ∷ drive 73145 7 0x08100 ∷ drive 73145 0 0x00a00 ∷ drive 73145 7 0x00000 ∷ drive 73145 0 0x04a00 ∷ drive 73145 7 0x00112 ∷ drive 73200 7 0x08112 ∷ drive 73200 0 0x00a00 ∷ drive 73200 7 0x00000 ∷ drive 73200 0 0x04a00 ∷ drive 73200 7 0x00100 ∷ drive 73255 7 0x08100 ∷ drive 73255 0 0x00a00 ∷ drive 73255 7 0x00000 ∷ drive 73255 0 0x01200 ∷ drive 74055 0 0x01270 ∷ drive 74110 0 0x05270 ∷ drive 74110 7 0x08000 ∷ drive 74110 0 0x01300 ∷ drive 74110 7 0x00000 ∷ drive 74165 0 0x05300 ∷ drive 74165 7 0x08000 ∷ drive 74165 0 0x01305 ∷ drive 74165 7 0x00000 ∷ drive 74220 0 0x05305 ∷ drive 74220 7 0x08000 ∷ drive 74220 0 0x01300 ∷ drive 74220 7 0x00000 ∷ drive 74275 0 0x05300 ∷ drive 74275 7 0x08000 ∷ drive 74275 0 0x01300 ∷ drive 74275 7 0x00000 ∷ drive 74330 0 0x05300 ∷ drive 74330 7 0x08000 ∷ drive 74330 0 0x01300 ∷ drive 74330 7 0x00000 ∷ drive 74385 0 0x05300 ∷ drive 74385 7 0x08000 ∷ drive 74385 0 0x01300 ∷ drive 74385 7 0x00000 ∷ drive 74440 0 0x05300 ∷ drive 74440 7 0x08000 ∷ drive 74440 0 0x0130a ∷ drive 74440 7 0x00000 ∷ drive 74495 0 0x0530a ∷ drive 74495 7 0x08000 ∷ drive 74495 0 0x01300 ∷ drive 74495 7 0x00000 ∷ drive 74550 0 0x05300 ∷ drive 74550 7 0x08000 ∷ drive 74550 0 0x01300 ∷ drive 74550 7 0x00000 ∷ drive 74605 0 0x05300 ∷ drive 74605 7 0x08000 ∷ drive 74605 0 0x01300 ∷ drive 74605 7 0x00000 ∷ drive 74660 0 0x05300 ∷ drive 74660 7 0x08000 ∷ drive 74660 0 0x01300 ∷ drive 74660 7 0x00000 ∷ drive 74715 0 0x05300 ∷ drive 74715 7 0x08000 ∷ drive 74715 0 0x01324 ∷ drive 74715 7 0x00000 ∷ drive 74770 0 0x05324 ∷ drive 74770 7 0x08000 ∷ drive 74770 0 0x01300 ∷ drive 74770 7 0x00000 ∷ drive 74825 0 0x05300 ∷ drive 74825 7 0x08000 ∷ drive 74825 0 0x01300 ∷ drive 74825 7 0x00000 ∷ drive 74880 0 0x05300 ∷ drive 74880 7 0x08000 ∷ drive 74880 0 0x01300 ∷ drive 74880 7 0x00000 ∷ drive 74935 0 0x05300 ∷ drive 74935 7 0x08000 ∷ drive 74935 0 0x01300 ∷ drive 74935 7 0x00000 ∷ drive 74990 0 0x05300 ∷ drive 74990 7 0x08000 ∷ drive 74990 0 0x01300 ∷ drive 74990 7 0x00000 ∷ drive 75045 0 0x05300 ∷ drive 75045 7 0x08000 ∷ drive 75045 0 0x01200 ∷ drive 75045 7 0x00000 ∷ drive 75045 0 0x01b00 ∷ drive 75445 0 0x05b00 ∷ drive 75445 7 0x08000 ∷ drive 75445 0 0x01a00 ∷ drive 75445 7 0x00000 ∷ drive 75445 0 0x03b00 ∷ drive 75845 0 0x07b00 ∷ drive 75845 7 0x08000 ∷ drive 75845 0 0x03a00 ∷ drive 75845 7 0x00000 ∷ drive 75845 0 0x00000 ∷ drive 77045 7 0x00280 ∷ drive 79445 7 0x00680 ∷ drive 80645 7 0x10781 ∷ drive 80735 7 0x10581 ∷ drive 81135 0 0x00200 ∷ drive 81225 7 0x10000 ∷ drive 81225 0 0x02a00 ∷ drive 81625 0 0x06a00 ∷ drive 81625 7 0x001c0 ∷ drive 81715 7 0x081c0 ∷ drive 81715 0 0x02a00 ∷ drive 81715 7 0x00000 ∷ drive 81715 0 0x00a00 ∷ drive 82115 0 0x04a00 ∷ drive 82115 7 0x00100 ∷ drive 82170 7 0x08100 ∷ drive 82170 0 0x00a00 ∷ drive 82170 7 0x00000 ∷ drive 82170 0 0x04a00 ∷ drive 82170 7 0x00100 ∷ drive 82225 7 0x08100 ∷ drive 82225 0 0x00a00 ∷ drive 82225 7 0x00000 ∷ drive 82225 0 0x04a00 ∷ drive 82225 7 0x00100 ∷ drive 82280 7 0x08100 ∷ drive 82280 0 0x00a00 ∷ drive 82280 7 0x00000 ∷ drive 82280 0 0x04a00 ∷ drive 82280 7 0x00100 ∷ drive 82335 7 0x08100 ∷ drive 82335 0 0x00a00 ∷ drive 82335 7 0x00000 ∷ drive 82335 0 0x04a00 ∷ drive 82335 7 0x00100 ∷ drive 82390 7 0x08100 ∷ drive 82390 0 0x00a00 ∷ drive 82390 7 0x00000 ∷ drive 82390 0 0x04a00 ∷ drive 82390 7 0x00100 ∷ drive 82445 7 0x08100 ∷ drive 82445 0 0x00a00 ∷ drive 82445 7 0x00000 ∷ drive 82445 0 0x01a00 ∷ drive 83245 0 0x01a02 ∷ drive 83300 0 0x05a02 ∷ drive 83300 7 0x08000 ∷ drive 83300 0 0x01a00 ∷ drive 83300 7 0x00000 ∷ drive 83300 0 0x03b00 ∷ drive 83700 0 0x07b00 ∷ drive 83700 7 0x08000 ∷ drive 83700 0 0x03a00 ∷ drive 83700 7 0x00000 ∷ drive 83700 0 0x00000 ∷ drive 84900 7 0x00280 ∷ drive 87300 7 0x00680 ∷ drive 88500 7 0x10781 ∷ drive 88590 7 0x10581 ∷ drive 88990 0 0x00200 ∷ drive 89080 7 0x10000 ∷ drive 89080 0 0x02a00 ∷ drive 89480 0 0x06a00 ∷ drive 89480 7 0x00080 ∷ drive 89570 7 0x08080 ∷ drive 89570 0 0x02a00 ∷ drive 89570 7 0x00000 ∷ drive 89570 0 0x00a00 ∷ drive 89970 0 0x04a00 ∷ drive 89970 7 0x00103 ∷ drive 90025 7 0x08103 ∷ drive 90025 0 0x00a00 ∷ drive 90025 7 0x00000 ∷ drive 90025 0 0x04a00 ∷ drive 90025 7 0x00100 ∷ drive 90080 7 0x08100 ∷ drive 90080 0 0x00a00 ∷ drive 90080 7 0x00000 ∷ drive 90080 0 0x04a00 ∷ drive 90080 7 0x00100 ∷ drive 90135 7 0x08100 ∷ drive 90135 0 0x00a00 ∷ drive 90135 7 0x00000 ∷ drive 90135 0 0x04a00 ∷ drive 90135 7 0x00100 ∷ drive 90190 7 0x08100 ∷ drive 90190 0 0x00a00 ∷ drive 90190 7 0x00000 ∷ drive 90190 0 0x04a00 ∷ drive 90190 7 0x00112 ∷ drive 90245 7 0x08112 ∷ drive 90245 0 0x00a00 ∷ drive 90245 7 0x00000 ∷ drive 90245 0 0x04a00 ∷ drive 90245 7 0x00100 ∷ drive 90300 7 0x08100 ∷ drive 90300 0 0x00a00 ∷ drive 90300 7 0x00000 ∷ drive 90300 0 0x01200 ∷ drive 91100 0 0x01270 ∷ drive 91155 0 0x05270 ∷ drive 91155 7 0x08000 ∷ drive 91155 0 0x01300 ∷ drive 91155 7 0x00000 ∷ drive 91210 0 0x05300 ∷ drive 91210 7 0x08000 ∷ drive 91210 0 0x01306 ∷ drive 91210 7 0x00000 ∷ drive 91265 0 0x05306 ∷ drive 91265 7 0x08000 ∷ drive 91265 0 0x01300 ∷ drive 91265 7 0x00000 ∷ drive 91320 0 0x05300 ∷ drive 91320 7 0x08000 ∷ drive 91320 0 0x01300 ∷ drive 91320 7 0x00000 ∷ drive 91375 0 0x05300 ∷ drive 91375 7 0x08000 ∷ drive 91375 0 0x01300 ∷ drive 91375 7 0x00000 ∷ drive 91430 0 0x05300 ∷ drive 91430 7 0x08000 ∷ drive 91430 0 0x01300 ∷ drive 91430 7 0x00000 ∷ drive 91485 0 0x05300 ∷ drive 91485 7 0x08000 ∷ drive 91485 0 0x0130a ∷ drive 91485 7 0x00000 ∷ drive 91540 0 0x0530a ∷ drive 91540 7 0x08000 ∷ drive 91540 0 0x01300 ∷ drive 91540 7 0x00000 ∷ drive 91595 0 0x05300 ∷ drive 91595 7 0x08000 ∷ drive 91595 0 0x01300 ∷ drive 91595 7 0x00000 ∷ drive 91650 0 0x05300 ∷ drive 91650 7 0x08000 ∷ drive 91650 0 0x01300 ∷ drive 91650 7 0x00000 ∷ drive 91705 0 0x05300 ∷ drive 91705 7 0x08000 ∷ drive 91705 0 0x01300 ∷ drive 91705 7 0x00000 ∷ drive 91760 0 0x05300 ∷ drive 91760 7 0x08000 ∷ drive 91760 0 0x01229 ∷ drive 91760 7 0x00000 ∷ drive 91815 0 0x05229 ∷ drive 91815 7 0x08000 ∷ drive 91815 0 0x01300 ∷ drive 91815 7 0x00000 ∷ drive 91870 0 0x05300 ∷ drive 91870 7 0x08000 ∷ drive 91870 0 0x01300 ∷ drive 91870 7 0x00000 ∷ drive 91925 0 0x05300 ∷ drive 91925 7 0x08000 ∷ drive 91925 0 0x01300 ∷ drive 91925 7 0x00000 ∷ drive 91980 0 0x05300 ∷ drive 91980 7 0x08000 ∷ drive 91980 0 0x01300 ∷ drive 91980 7 0x00000 ∷ drive 92035 0 0x05300 ∷ drive 92035 7 0x08000 ∷ drive 92035 0 0x01300 ∷ drive 92035 7 0x00000 ∷ drive 92090 0 0x05300 ∷ drive 92090 7 0x08000 ∷ drive 92090 0 0x01200 ∷ drive 92090 7 0x00000 ∷ drive 92090 0 0x01b00 ∷ drive 92490 0 0x05b00 ∷ drive 92490 7 0x08000 ∷ drive 92490 0 0x01a00 ∷ drive 92490 7 0x00000 ∷ drive 92490 0 0x03b00 ∷ drive 92890 0 0x07b00 ∷ drive 92890 7 0x08000 ∷ drive 92890 0 0x03a00 ∷ drive 92890 7 0x00000 ∷ drive 92890 0 0x00000 ∷ []

abbrev faulty_inquiry_with_attention_guard_events : List Event
faulty_inquiry_with_attention_guard_events = events.Reset 7 ∷ events.Accept (command 1) ∷ events.Run (command 1) ∷ events.End (command 1) 2 ∷ events.Accept (sense 1) ∷ events.Run (sense 1) ∷ events.End (sense 1) 0 ∷ events.Accept (command 2) ∷ events.Run (command 2) ∷ events.End (command 2) 2 ∷ events.Accept (sense 2) ∷ events.Run (sense 2) ∷ events.End (sense 2) 0 ∷ []

abbrev pub faulty_inquiry_with_attention_guard_shown : Shows
faulty_inquiry_with_attention_guard_shown = record { rows = reverse faulty_inquiry_with_attention_guard_rows; history = reverse faulty_inquiry_with_attention_guard_events; ended = true }

faulty_inquiry_with_attention_guard_run : shown (run_by_due faulty_inquiry_with_attention_guard 369) ≡ faulty_inquiry_with_attention_guard_shown
unfolding need_of sent_of ones union_below line_of form_out form_in least run_from
faulty_inquiry_with_attention_guard_run = refl

-- ---- faulty_sense_with_attention_guard

abbrev pub faulty_sense_with_attention_guard : ScenarioValue
faulty_sense_with_attention_guard = record {
  version = 1;
  hosts = record { dev = 7; latency = 0; most = 4; retries = 2; period = 0; offset = 0; lag = 0; offers = true } ∷ [];
  targets = record { dev = 0; latency = 0; retries = 2; disc = policies.Never; pick = picks.First; seek = 0; period = 0; offset = 0; begins = false } ∷ [];
  units = record { target = 0; unit = 0; blocks = 1; size = 16; depth = 4 } ∷ [];
  fills = [];
  tapes = [];
  loads = [];
  commands = record { host = 7; target = 0; unit = 0; at = 60000; tag = tags.Untagged; cdb = (3 ∷ 0 ∷ 0 ∷ 0 ∷ 18 ∷ 1 ∷ []); payload = payloads.Nothing } ∷ record { host = 7; target = 0; unit = 0; at = 60000; tag = tags.Untagged; cdb = (0 ∷ 0 ∷ 0 ∷ 0 ∷ 0 ∷ 0 ∷ []); payload = payloads.Nothing } ∷ [];
  aborts = [];
  resets = record { dev = 7; at = 1000 } ∷ [];
  faults = [];
}

abbrev pub faulty_sense_with_attention_guard_rows : List Row
faulty_sense_with_attention_guard_rows = drive 1000 7 0x20000 ∷ drive 26000 7 0x00000 ∷ drive 60000 7 0x00280 ∷ drive 62400 7 0x00680 ∷ drive 63600 7 0x10781 ∷ drive 63690 7 0x10581 ∷ drive 64090 0 0x00200 ∷ drive 64180 7 0x10000 ∷ drive 64180 0 0x02a00 ∷ drive 64580 0 0x06a00 ∷ drive 64580 7 0x001c0 ∷ drive 64670 7 0x081c0 ∷ drive 64670 0 0x02a00 ∷ drive 64670 7 0x00000 ∷ drive 64670 0 0x00a00 ∷ drive 65070 0 0x04a00 ∷ drive 65070 7 0x00103 ∷ drive 65125 7 0x08103 ∷ drive 65125 0 0x00a00 ∷ drive 65125 7 0x00000 ∷ drive 65125 0 0x04a00 ∷ drive 65125 7 0x00100 ∷ drive 65180 7 0x08100 ∷ drive 65180 0 0x00a00 ∷ drive 65180 7 0x00000 ∷ drive 65180 0 0x04a00 ∷ drive 65180 7 0x00100 ∷ drive 65235 7 0x08100 ∷ drive 65235 0 0x00a00 ∷ drive 65235 7 0x00000 ∷ drive 65235 0 0x04a00 ∷ drive 65235 7 0x00100 ∷ drive 65290 7 0x08100 ∷ drive 65290 0 0x00a00 ∷ drive 65290 7 0x00000 ∷ drive 65290 0 0x04a00 ∷ drive 65290 7 0x00112 ∷ drive 65345 7 0x08112 ∷ drive 65345 0 0x00a00 ∷ drive 65345 7 0x00000 ∷ drive 65345 0 0x04a00 ∷ drive 65345 7 0x00001 ∷ drive 65400 7 0x08001 ∷ drive 65400 0 0x00a00 ∷ drive 65400 7 0x00000 ∷ drive 65400 0 0x01a00 ∷ drive 66200 0 0x01a02 ∷ drive 66255 0 0x05a02 ∷ drive 66255 7 0x08000 ∷ drive 66255 0 0x01a00 ∷ drive 66255 7 0x00000 ∷ drive 66255 0 0x03b00 ∷ drive 66655 0 0x07b00 ∷ drive 66655 7 0x08000 ∷ drive 66655 0 0x03a00 ∷ drive 66655 7 0x00000 ∷ drive 66655 0 0x00000 ∷ drive 67855 7 0x00280 ∷ drive 70255 7 0x00680 ∷ drive 71455 7 0x10781 ∷ drive 71545 7 0x10581 ∷ drive 71945 0 0x00200 ∷ drive 72035 7 0x10000 ∷ drive 72035 0 0x02a00 ∷ drive 72435 0 0x06a00 ∷ drive 72435 7 0x00080 ∷ drive 72525 7 0x08080 ∷ drive 72525 0 0x02a00 ∷ drive 72525 7 0x00000 ∷ drive 72525 0 0x00a00 ∷ drive 72925 0 0x04a00 ∷ drive 72925 7 0x00103 ∷ drive 72980 7 0x08103 ∷ drive 72980 0 0x00a00 ∷ drive 72980 7 0x00000 ∷ drive 72980 0 0x04a00 ∷ drive 72980 7 0x00100 ∷ drive 73035 7 0x08100 ∷ drive 73035 0 0x00a00 ∷ drive 73035 7 0x00000 ∷ drive 73035 0 0x04a00 ∷ drive 73035 7 0x00100 ∷ drive 73090 7 0x08100 ∷ drive 73090 0 0x00a00 ∷ drive 73090 7 0x00000 ∷ drive 73090 0 0x04a00 ∷ drive 73090 7 0x00100 ∷ drive 73145 7 0x08100 ∷ drive 73145 0 0x00a00 ∷ drive 73145 7 0x00000 ∷ drive 73145 0 0x04a00 ∷ drive 73145 7 0x00112 ∷ drive 73200 7 0x08112 ∷ drive 73200 0 0x00a00 ∷ drive 73200 7 0x00000 ∷ drive 73200 0 0x04a00 ∷ drive 73200 7 0x00100 ∷ drive 73255 7 0x08100 ∷ drive 73255 0 0x00a00 ∷ drive 73255 7 0x00000 ∷ drive 73255 0 0x01200 ∷ drive 74055 0 0x01270 ∷ drive 74110 0 0x05270 ∷ drive 74110 7 0x08000 ∷ drive 74110 0 0x01300 ∷ drive 74110 7 0x00000 ∷ drive 74165 0 0x05300 ∷ drive 74165 7 0x08000 ∷ drive 74165 0 0x01305 ∷ drive 74165 7 0x00000 ∷ drive 74220 0 0x05305 ∷ drive 74220 7 0x08000 ∷ drive 74220 0 0x01300 ∷ drive 74220 7 0x00000 ∷ drive 74275 0 0x05300 ∷ drive 74275 7 0x08000 ∷ drive 74275 0 0x01300 ∷ drive 74275 7 0x00000 ∷ drive 74330 0 0x05300 ∷ drive 74330 7 0x08000 ∷ drive 74330 0 0x01300 ∷ drive 74330 7 0x00000 ∷ drive 74385 0 0x05300 ∷ drive 74385 7 0x08000 ∷ drive 74385 0 0x01300 ∷ drive 74385 7 0x00000 ∷ drive 74440 0 0x05300 ∷ drive 74440 7 0x08000 ∷ drive 74440 0 0x0130a ∷ drive 74440 7 0x00000 ∷ drive 74495 0 0x0530a ∷ drive 74495 7 0x08000 ∷ drive 74495 0 0x01300 ∷ drive 74495 7 0x00000 ∷ drive 74550 0 0x05300 ∷ drive 74550 7 0x08000 ∷ drive 74550 0 0x01300 ∷ drive 74550 7 0x00000 ∷ drive 74605 0 0x05300 ∷ drive 74605 7 0x08000 ∷ drive 74605 0 0x01300 ∷ drive 74605 7 0x00000 ∷ drive 74660 0 0x05300 ∷ drive 74660 7 0x08000 ∷ drive 74660 0 0x01300 ∷ drive 74660 7 0x00000 ∷ drive 74715 0 0x05300 ∷ drive 74715 7 0x08000 ∷ drive 74715 0 0x01324 ∷ drive 74715 7 0x00000 ∷ drive 74770 0 0x05324 ∷ drive 74770 7 0x08000 ∷ drive 74770 0 0x01300 ∷ drive 74770 7 0x00000 ∷ drive 74825 0 0x05300 ∷ drive 74825 7 0x08000 ∷ drive 74825 0 0x01300 ∷ drive 74825 7 0x00000 ∷ drive 74880 0 0x05300 ∷ drive 74880 7 0x08000 ∷ drive 74880 0 0x01300 ∷ drive 74880 7 0x00000 ∷ drive 74935 0 0x05300 ∷ drive 74935 7 0x08000 ∷ drive 74935 0 0x01300 ∷ drive 74935 7 0x00000 ∷ drive 74990 0 0x05300 ∷ drive 74990 7 0x08000 ∷ drive 74990 0 0x01300 ∷ drive 74990 7 0x00000 ∷ drive 75045 0 0x05300 ∷ drive 75045 7 0x08000 ∷ drive 75045 0 0x01200 ∷ drive 75045 7 0x00000 ∷ drive 75045 0 0x01b00 ∷ drive 75445 0 0x05b00 ∷ drive 75445 7 0x08000 ∷ drive 75445 0 0x01a00 ∷ drive 75445 7 0x00000 ∷ drive 75445 0 0x03b00 ∷ drive 75845 0 0x07b00 ∷ drive 75845 7 0x08000 ∷ drive 75845 0 0x03a00 ∷ drive 75845 7 0x00000 ∷ drive 75845 0 0x00000 ∷ drive 77045 7 0x00280 ∷ drive 79445 7 0x00680 ∷ drive 80645 7 0x10781 ∷ drive 80735 7 0x10581 ∷ drive 81135 0 0x00200 ∷ drive 81225 7 0x10000 ∷ drive 81225 0 0x02a00 ∷ drive 81625 0 0x06a00 ∷ drive 81625 7 0x001c0 ∷ drive 81715 7 0x081c0 ∷ drive 81715 0 0x02a00 ∷ drive 81715 7 0x00000 ∷ drive 81715 0 0x00a00 ∷ drive 82115 0 0x04a00 ∷ drive 82115 7 0x00100 ∷ drive 82170 7 0x08100 ∷ drive 82170 0 0x00a00 ∷ drive 82170 7 0x00000 ∷ drive 82170 0 0x04a00 ∷ drive 82170 7 0x00100 ∷ drive 82225 7 0x08100 ∷ drive 82225 0 0x00a00 ∷ drive 82225 7 0x00000 ∷ drive 82225 0 0x04a00 ∷ drive 82225 7 0x00100 ∷ drive 82280 7 0x08100 ∷ drive 82280 0 0x00a00 ∷ drive 82280 7 0x00000 ∷ drive 82280 0 0x04a00 ∷ drive 82280 7 0x00100 ∷ drive 82335 7 0x08100 ∷ drive 82335 0 0x00a00 ∷ drive 82335 7 0x00000 ∷ drive 82335 0 0x04a00 ∷ drive 82335 7 0x00100 ∷ drive 82390 7 0x08100 ∷ drive 82390 0 0x00a00 ∷ drive 82390 7 0x00000 ∷ drive 82390 0 0x04a00 ∷ drive 82390 7 0x00100 ∷ drive 82445 7 0x08100 ∷ drive 82445 0 0x00a00 ∷ drive 82445 7 0x00000 ∷ drive 82445 0 0x01a00 ∷ drive 83245 0 0x01a02 ∷ drive 83300 0 0x05a02 ∷ drive 83300 7 0x08000 ∷ drive 83300 0 0x01a00 ∷ drive 83300 7 0x00000 ∷ drive 83300 0 0x03b00 ∷ drive 83700 0 0x07b00 ∷ drive 83700 7 0x08000 ∷ drive 83700 0 0x03a00 ∷ drive 83700 7 0x00000 ∷ drive 83700 0 0x00000 ∷ drive 84900 7 0x00280 ∷ drive 87300 7 0x00680 ∷ drive 88500 7 0x10781 ∷ drive 88590 7 0x10581 ∷ drive 88990 0 0x00200 ∷ drive 89080 7 0x10000 ∷ drive 89080 0 0x02a00 ∷ drive 89480 0 0x06a00 ∷ drive 89480 7 0x00080 ∷ drive 89570 7 0x08080 ∷ drive 89570 0 0x02a00 ∷ drive 89570 7 0x00000 ∷ drive 89570 0 0x00a00 ∷ drive 89970 0 0x04a00 ∷ drive 89970 7 0x00103 ∷ drive 90025 7 0x08103 ∷ drive 90025 0 0x00a00 ∷ drive 90025 7 0x00000 ∷ drive 90025 0 0x04a00 ∷ drive 90025 7 0x00100 ∷ drive 90080 7 0x08100 ∷ drive 90080 0 0x00a00 ∷ drive 90080 7 0x00000 ∷ drive 90080 0 0x04a00 ∷ drive 90080 7 0x00100 ∷ drive 90135 7 0x08100 ∷ drive 90135 0 0x00a00 ∷ drive 90135 7 0x00000 ∷ drive 90135 0 0x04a00 ∷ drive 90135 7 0x00100 ∷ drive 90190 7 0x08100 ∷ drive 90190 0 0x00a00 ∷ drive 90190 7 0x00000 ∷ drive 90190 0 0x04a00 ∷ drive 90190 7 0x00112 ∷ drive 90245 7 0x08112 ∷ drive 90245 0 0x00a00 ∷ drive 90245 7 0x00000 ∷ drive 90245 0 0x04a00 ∷ drive 90245 7 0x00100 ∷ drive 90300 7 0x08100 ∷ drive 90300 0 0x00a00 ∷ drive 90300 7 0x00000 ∷ drive 90300 0 0x01200 ∷ drive 91100 0 0x01270 ∷ drive 91155 0 0x05270 ∷ drive 91155 7 0x08000 ∷ drive 91155 0 0x01300 ∷ drive 91155 7 0x00000 ∷ drive 91210 0 0x05300 ∷ drive 91210 7 0x08000 ∷ drive 91210 0 0x01306 ∷ drive 91210 7 0x00000 ∷ drive 91265 0 0x05306 ∷ drive 91265 7 0x08000 ∷ drive 91265 0 0x01300 ∷ drive 91265 7 0x00000 ∷ drive 91320 0 0x05300 ∷ drive 91320 7 0x08000 ∷ drive 91320 0 0x01300 ∷ drive 91320 7 0x00000 ∷ drive 91375 0 0x05300 ∷ drive 91375 7 0x08000 ∷ drive 91375 0 0x01300 ∷ drive 91375 7 0x00000 ∷ drive 91430 0 0x05300 ∷ drive 91430 7 0x08000 ∷ drive 91430 0 0x01300 ∷ drive 91430 7 0x00000 ∷ drive 91485 0 0x05300 ∷ drive 91485 7 0x08000 ∷ drive 91485 0 0x0130a ∷ drive 91485 7 0x00000 ∷ drive 91540 0 0x0530a ∷ drive 91540 7 0x08000 ∷ drive 91540 0 0x01300 ∷ drive 91540 7 0x00000 ∷ drive 91595 0 0x05300 ∷ drive 91595 7 0x08000 ∷ drive 91595 0 0x01300 ∷ drive 91595 7 0x00000 ∷ drive 91650 0 0x05300 ∷ drive 91650 7 0x08000 ∷ drive 91650 0 0x01300 ∷ drive 91650 7 0x00000 ∷ drive 91705 0 0x05300 ∷ drive 91705 7 0x08000 ∷ drive 91705 0 0x01300 ∷ drive 91705 7 0x00000 ∷ drive 91760 0 0x05300 ∷ drive 91760 7 0x08000 ∷ drive 91760 0 0x01229 ∷ drive 91760 7 0x00000 ∷ drive 91815 0 0x05229 ∷ drive 91815 7 0x08000 ∷ drive 91815 0 0x01300 ∷ drive 91815 7 0x00000 ∷ drive 91870 0 0x05300 ∷ drive 91870 7 0x08000 ∷ drive 91870 0 0x01300 ∷ drive 91870 7 0x00000 ∷ drive 91925 0 0x05300 ∷ drive 91925 7 0x08000 ∷ drive 91925 0 0x01300 ∷ drive 91925 7 0x00000 ∷ drive 91980 0 0x05300 ∷ drive 91980 7 0x08000 ∷ drive 91980 0 0x01300 ∷ drive 91980 7 0x00000 ∷ drive 92035 0 0x05300 ∷ drive 92035 7 0x08000 ∷ drive 92035 0 0x01300 ∷ drive 92035 7 0x00000 ∷ drive 92090 0 0x05300 ∷ drive 92090 7 0x08000 ∷ drive 92090 0 0x01200 ∷ drive 92090 7 0x00000 ∷ drive 92090 0 0x01b00 ∷ drive 92490 0 0x05b00 ∷ drive 92490 7 0x08000 ∷ drive 92490 0 0x01a00 ∷ drive 92490 7 0x00000 ∷ drive 92490 0 0x03b00 ∷ drive 92890 0 0x07b00 ∷ drive 92890 7 0x08000 ∷ drive 92890 0 0x03a00 ∷ drive 92890 7 0x00000 ∷ drive 92890 0 0x00000 ∷ []

abbrev faulty_sense_with_attention_guard_events : List Event
faulty_sense_with_attention_guard_events = events.Reset 7 ∷ events.Accept (command 1) ∷ events.Run (command 1) ∷ events.End (command 1) 2 ∷ events.Accept (sense 1) ∷ events.Run (sense 1) ∷ events.End (sense 1) 0 ∷ events.Accept (command 2) ∷ events.Run (command 2) ∷ events.End (command 2) 2 ∷ events.Accept (sense 2) ∷ events.Run (sense 2) ∷ events.End (sense 2) 0 ∷ []

abbrev pub faulty_sense_with_attention_guard_shown : Shows
faulty_sense_with_attention_guard_shown = record { rows = reverse faulty_sense_with_attention_guard_rows; history = reverse faulty_sense_with_attention_guard_events; ended = true }

faulty_sense_with_attention_guard_run : shown (run_by_due faulty_sense_with_attention_guard 369) ≡ faulty_sense_with_attention_guard_shown
unfolding need_of sent_of ones union_below line_of form_out form_in least run_from
faulty_sense_with_attention_guard_run = refl

-- ---- loads_of_three_tapes_guard

abbrev pub loads_of_three_tapes_guard : ScenarioValue
loads_of_three_tapes_guard = record {
  version = 3;
  hosts = record { dev = 7; latency = 0; most = 1; retries = 2; period = 0; offset = 0; lag = 0; offers = true } ∷ [];
  targets = record { dev = 0; latency = 0; retries = 2; disc = policies.Never; pick = picks.First; seek = 0; period = 0; offset = 0; begins = false } ∷ record { dev = 1; latency = 0; retries = 2; disc = policies.Never; pick = picks.First; seek = 0; period = 0; offset = 0; begins = false } ∷ [];
  units = [];
  fills = [];
  tapes = record { target = 0; unit = 0; objects = 2; size = 16; depth = 1 } ∷ record { target = 0; unit = 1; objects = 2; size = 16; depth = 1 } ∷ record { target = 1; unit = 0; objects = 2; size = 16; depth = 1 } ∷ [];
  loads = record { target = 0; unit = 1; what = loads.Block (66 ∷ 66 ∷ 66 ∷ 66 ∷ 66 ∷ 66 ∷ 66 ∷ 66 ∷ 66 ∷ 66 ∷ 66 ∷ 66 ∷ 66 ∷ 66 ∷ 66 ∷ 66 ∷ []) } ∷ record { target = 1; unit = 0; what = loads.Block (67 ∷ 67 ∷ 67 ∷ 67 ∷ 67 ∷ 67 ∷ 67 ∷ 67 ∷ 67 ∷ 67 ∷ 67 ∷ 67 ∷ 67 ∷ 67 ∷ 67 ∷ 67 ∷ []) } ∷ record { target = 0; unit = 0; what = loads.Block (65 ∷ 65 ∷ 65 ∷ 65 ∷ 65 ∷ 65 ∷ 65 ∷ 65 ∷ 65 ∷ 65 ∷ 65 ∷ 65 ∷ 65 ∷ 65 ∷ 65 ∷ 65 ∷ []) } ∷ [];
  commands = record { host = 7; target = 0; unit = 0; at = 0; tag = tags.Untagged; cdb = (8 ∷ 1 ∷ 0 ∷ 0 ∷ 1 ∷ 0 ∷ []); payload = payloads.Nothing } ∷ record { host = 7; target = 0; unit = 1; at = 0; tag = tags.Untagged; cdb = (8 ∷ 1 ∷ 0 ∷ 0 ∷ 1 ∷ 0 ∷ []); payload = payloads.Nothing } ∷ record { host = 7; target = 1; unit = 0; at = 0; tag = tags.Untagged; cdb = (8 ∷ 1 ∷ 0 ∷ 0 ∷ 1 ∷ 0 ∷ []); payload = payloads.Nothing } ∷ [];
  aborts = [];
  resets = [];
  faults = [];
}

abbrev pub loads_of_three_tapes_guard_rows : List Row
loads_of_three_tapes_guard_rows = drive 1200 7 0x00280 ∷ drive 3600 7 0x00680 ∷ drive 4800 7 0x10781 ∷ drive 4890 7 0x10581 ∷ drive 5290 0 0x00200 ∷ drive 5380 7 0x10000 ∷ drive 5380 0 0x02a00 ∷ drive 5780 0 0x06a00 ∷ drive 5780 7 0x001c0 ∷ drive 5870 7 0x081c0 ∷ drive 5870 0 0x02a00 ∷ drive 5870 7 0x00000 ∷ drive 5870 0 0x00a00 ∷ drive 6270 0 0x04a00 ∷ drive 6270 7 0x00008 ∷ drive 6325 7 0x08008 ∷ drive 6325 0 0x00a00 ∷ drive 6325 7 0x00000 ∷ drive 6325 0 0x04a00 ∷ drive 6325 7 0x00001 ∷ drive 6380 7 0x08001 ∷ drive 6380 0 0x00a00 ∷ drive 6380 7 0x00000 ∷ drive 6380 0 0x04a00 ∷ drive 6380 7 0x00100 ∷ drive 6435 7 0x08100 ∷ drive 6435 0 0x00a00 ∷ drive 6435 7 0x00000 ∷ drive 6435 0 0x04a00 ∷ drive 6435 7 0x00100 ∷ drive 6490 7 0x08100 ∷ drive 6490 0 0x00a00 ∷ drive 6490 7 0x00000 ∷ drive 6490 0 0x04a00 ∷ drive 6490 7 0x00001 ∷ drive 6545 7 0x08001 ∷ drive 6545 0 0x00a00 ∷ drive 6545 7 0x00000 ∷ drive 6545 0 0x04a00 ∷ drive 6545 7 0x00100 ∷ drive 6600 7 0x08100 ∷ drive 6600 0 0x00a00 ∷ drive 6600 7 0x00000 ∷ drive 6600 0 0x01200 ∷ drive 7400 0 0x01341 ∷ drive 7455 0 0x05341 ∷ drive 7455 7 0x08000 ∷ drive 7455 0 0x01341 ∷ drive 7455 7 0x00000 ∷ drive 7510 0 0x05341 ∷ drive 7510 7 0x08000 ∷ drive 7510 0 0x01341 ∷ drive 7510 7 0x00000 ∷ drive 7565 0 0x05341 ∷ drive 7565 7 0x08000 ∷ drive 7565 0 0x01341 ∷ drive 7565 7 0x00000 ∷ drive 7620 0 0x05341 ∷ drive 7620 7 0x08000 ∷ drive 7620 0 0x01341 ∷ drive 7620 7 0x00000 ∷ drive 7675 0 0x05341 ∷ drive 7675 7 0x08000 ∷ drive 7675 0 0x01341 ∷ drive 7675 7 0x00000 ∷ drive 7730 0 0x05341 ∷ drive 7730 7 0x08000 ∷ drive 7730 0 0x01341 ∷ drive 7730 7 0x00000 ∷ drive 7785 0 0x05341 ∷ drive 7785 7 0x08000 ∷ drive 7785 0 0x01341 ∷ drive 7785 7 0x00000 ∷ drive 7840 0 0x05341 ∷ drive 7840 7 0x08000 ∷ drive 7840 0 0x01341 ∷ drive 7840 7 0x00000 ∷ drive 7895 0 0x05341 ∷ drive 7895 7 0x08000 ∷ drive 7895 0 0x01341 ∷ drive 7895 7 0x00000 ∷ drive 7950 0 0x05341 ∷ drive 7950 7 0x08000 ∷ drive 7950 0 0x01341 ∷ drive 7950 7 0x00000 ∷ drive 8005 0 0x05341 ∷ drive 8005 7 0x08000 ∷ drive 8005 0 0x01341 ∷ drive 8005 7 0x00000 ∷ drive 8060 0 0x05341 ∷ drive 8060 7 0x08000 ∷ drive 8060 0 0x01341 ∷ drive 8060 7 0x00000 ∷ drive 8115 0 0x05341 ∷ drive 8115 7 0x08000 ∷ drive 8115 0 0x01341 ∷ drive 8115 7 0x00000 ∷ drive 8170 0 0x05341 ∷ drive 8170 7 0x08000 ∷ drive 8170 0 0x01341 ∷ drive 8170 7 0x00000 ∷ drive 8225 0 0x05341 ∷ drive 8225 7 0x08000 ∷ drive 8225 0 0x01341 ∷ drive 8225 7 0x00000 ∷ drive 8280 0 0x05341 ∷ drive 8280 7 0x08000 ∷ drive 8280 0 0x01200 ∷ drive 8280 7 0x00000 ∷ drive 8280 0 0x01b00 ∷ drive 8680 0 0x05b00 ∷ drive 8680 7 0x08000 ∷ drive 8680 0 0x01a00 ∷ drive 8680 7 0x00000 ∷ drive 8680 0 0x03b00 ∷ drive 9080 0 0x07b00 ∷ drive 9080 7 0x08000 ∷ drive 9080 0 0x03a00 ∷ drive 9080 7 0x00000 ∷ drive 9080 0 0x00000 ∷ drive 10280 7 0x00280 ∷ drive 12680 7 0x00680 ∷ drive 13880 7 0x10781 ∷ drive 13970 7 0x10581 ∷ drive 14370 0 0x00200 ∷ drive 14460 7 0x10000 ∷ drive 14460 0 0x02a00 ∷ drive 14860 0 0x06a00 ∷ drive 14860 7 0x000c1 ∷ drive 14950 7 0x080c1 ∷ drive 14950 0 0x02a00 ∷ drive 14950 7 0x00000 ∷ drive 14950 0 0x00a00 ∷ drive 15350 0 0x04a00 ∷ drive 15350 7 0x00008 ∷ drive 15405 7 0x08008 ∷ drive 15405 0 0x00a00 ∷ drive 15405 7 0x00000 ∷ drive 15405 0 0x04a00 ∷ drive 15405 7 0x00001 ∷ drive 15460 7 0x08001 ∷ drive 15460 0 0x00a00 ∷ drive 15460 7 0x00000 ∷ drive 15460 0 0x04a00 ∷ drive 15460 7 0x00100 ∷ drive 15515 7 0x08100 ∷ drive 15515 0 0x00a00 ∷ drive 15515 7 0x00000 ∷ drive 15515 0 0x04a00 ∷ drive 15515 7 0x00100 ∷ drive 15570 7 0x08100 ∷ drive 15570 0 0x00a00 ∷ drive 15570 7 0x00000 ∷ drive 15570 0 0x04a00 ∷ drive 15570 7 0x00001 ∷ drive 15625 7 0x08001 ∷ drive 15625 0 0x00a00 ∷ drive 15625 7 0x00000 ∷ drive 15625 0 0x04a00 ∷ drive 15625 7 0x00100 ∷ drive 15680 7 0x08100 ∷ drive 15680 0 0x00a00 ∷ drive 15680 7 0x00000 ∷ drive 15680 0 0x01200 ∷ drive 16480 0 0x01342 ∷ drive 16535 0 0x05342 ∷ drive 16535 7 0x08000 ∷ drive 16535 0 0x01342 ∷ drive 16535 7 0x00000 ∷ drive 16590 0 0x05342 ∷ drive 16590 7 0x08000 ∷ drive 16590 0 0x01342 ∷ drive 16590 7 0x00000 ∷ drive 16645 0 0x05342 ∷ drive 16645 7 0x08000 ∷ drive 16645 0 0x01342 ∷ drive 16645 7 0x00000 ∷ drive 16700 0 0x05342 ∷ drive 16700 7 0x08000 ∷ drive 16700 0 0x01342 ∷ drive 16700 7 0x00000 ∷ drive 16755 0 0x05342 ∷ drive 16755 7 0x08000 ∷ drive 16755 0 0x01342 ∷ drive 16755 7 0x00000 ∷ drive 16810 0 0x05342 ∷ drive 16810 7 0x08000 ∷ drive 16810 0 0x01342 ∷ drive 16810 7 0x00000 ∷ drive 16865 0 0x05342 ∷ drive 16865 7 0x08000 ∷ drive 16865 0 0x01342 ∷ drive 16865 7 0x00000 ∷ drive 16920 0 0x05342 ∷ drive 16920 7 0x08000 ∷ drive 16920 0 0x01342 ∷ drive 16920 7 0x00000 ∷ drive 16975 0 0x05342 ∷ drive 16975 7 0x08000 ∷ drive 16975 0 0x01342 ∷ drive 16975 7 0x00000 ∷ drive 17030 0 0x05342 ∷ drive 17030 7 0x08000 ∷ drive 17030 0 0x01342 ∷ drive 17030 7 0x00000 ∷ drive 17085 0 0x05342 ∷ drive 17085 7 0x08000 ∷ drive 17085 0 0x01342 ∷ drive 17085 7 0x00000 ∷ drive 17140 0 0x05342 ∷ drive 17140 7 0x08000 ∷ drive 17140 0 0x01342 ∷ drive 17140 7 0x00000 ∷ drive 17195 0 0x05342 ∷ drive 17195 7 0x08000 ∷ drive 17195 0 0x01342 ∷ drive 17195 7 0x00000 ∷ drive 17250 0 0x05342 ∷ drive 17250 7 0x08000 ∷ drive 17250 0 0x01342 ∷ drive 17250 7 0x00000 ∷ drive 17305 0 0x05342 ∷ drive 17305 7 0x08000 ∷ drive 17305 0 0x01342 ∷ drive 17305 7 0x00000 ∷ drive 17360 0 0x05342 ∷ drive 17360 7 0x08000 ∷ drive 17360 0 0x01200 ∷ drive 17360 7 0x00000 ∷ drive 17360 0 0x01b00 ∷ drive 17760 0 0x05b00 ∷ drive 17760 7 0x08000 ∷ drive 17760 0 0x01a00 ∷ drive 17760 7 0x00000 ∷ drive 17760 0 0x03b00 ∷ drive 18160 0 0x07b00 ∷ drive 18160 7 0x08000 ∷ drive 18160 0 0x03a00 ∷ drive 18160 7 0x00000 ∷ drive 18160 0 0x00000 ∷ drive 19360 7 0x00280 ∷ drive 21760 7 0x00680 ∷ drive 22960 7 0x10782 ∷ drive 23050 7 0x10582 ∷ drive 23450 1 0x00200 ∷ drive 23540 7 0x10000 ∷ drive 23540 1 0x02a00 ∷ drive 23940 1 0x06a00 ∷ drive 23940 7 0x001c0 ∷ drive 24030 7 0x081c0 ∷ drive 24030 1 0x02a00 ∷ drive 24030 7 0x00000 ∷ drive 24030 1 0x00a00 ∷ drive 24430 1 0x04a00 ∷ drive 24430 7 0x00008 ∷ drive 24485 7 0x08008 ∷ drive 24485 1 0x00a00 ∷ drive 24485 7 0x00000 ∷ drive 24485 1 0x04a00 ∷ drive 24485 7 0x00001 ∷ drive 24540 7 0x08001 ∷ drive 24540 1 0x00a00 ∷ drive 24540 7 0x00000 ∷ drive 24540 1 0x04a00 ∷ drive 24540 7 0x00100 ∷ drive 24595 7 0x08100 ∷ drive 24595 1 0x00a00 ∷ drive 24595 7 0x00000 ∷ drive 24595 1 0x04a00 ∷ drive 24595 7 0x00100 ∷ drive 24650 7 0x08100 ∷ drive 24650 1 0x00a00 ∷ drive 24650 7 0x00000 ∷ drive 24650 1 0x04a00 ∷ drive 24650 7 0x00001 ∷ drive 24705 7 0x08001 ∷ drive 24705 1 0x00a00 ∷ drive 24705 7 0x00000 ∷ drive 24705 1 0x04a00 ∷ drive 24705 7 0x00100 ∷ drive 24760 7 0x08100 ∷ drive 24760 1 0x00a00 ∷ drive 24760 7 0x00000 ∷ drive 24760 1 0x01200 ∷ drive 25560 1 0x01243 ∷ drive 25615 1 0x05243 ∷ drive 25615 7 0x08000 ∷ drive 25615 1 0x01243 ∷ drive 25615 7 0x00000 ∷ drive 25670 1 0x05243 ∷ drive 25670 7 0x08000 ∷ drive 25670 1 0x01243 ∷ drive 25670 7 0x00000 ∷ drive 25725 1 0x05243 ∷ drive 25725 7 0x08000 ∷ drive 25725 1 0x01243 ∷ drive 25725 7 0x00000 ∷ drive 25780 1 0x05243 ∷ drive 25780 7 0x08000 ∷ drive 25780 1 0x01243 ∷ drive 25780 7 0x00000 ∷ drive 25835 1 0x05243 ∷ drive 25835 7 0x08000 ∷ drive 25835 1 0x01243 ∷ drive 25835 7 0x00000 ∷ drive 25890 1 0x05243 ∷ drive 25890 7 0x08000 ∷ drive 25890 1 0x01243 ∷ drive 25890 7 0x00000 ∷ drive 25945 1 0x05243 ∷ drive 25945 7 0x08000 ∷ drive 25945 1 0x01243 ∷ drive 25945 7 0x00000 ∷ drive 26000 1 0x05243 ∷ drive 26000 7 0x08000 ∷ drive 26000 1 0x01243 ∷ drive 26000 7 0x00000 ∷ drive 26055 1 0x05243 ∷ drive 26055 7 0x08000 ∷ drive 26055 1 0x01243 ∷ drive 26055 7 0x00000 ∷ drive 26110 1 0x05243 ∷ drive 26110 7 0x08000 ∷ drive 26110 1 0x01243 ∷ drive 26110 7 0x00000 ∷ drive 26165 1 0x05243 ∷ drive 26165 7 0x08000 ∷ drive 26165 1 0x01243 ∷ drive 26165 7 0x00000 ∷ drive 26220 1 0x05243 ∷ drive 26220 7 0x08000 ∷ drive 26220 1 0x01243 ∷ drive 26220 7 0x00000 ∷ drive 26275 1 0x05243 ∷ drive 26275 7 0x08000 ∷ drive 26275 1 0x01243 ∷ drive 26275 7 0x00000 ∷ drive 26330 1 0x05243 ∷ drive 26330 7 0x08000 ∷ drive 26330 1 0x01243 ∷ drive 26330 7 0x00000 ∷ drive 26385 1 0x05243 ∷ drive 26385 7 0x08000 ∷ drive 26385 1 0x01243 ∷ drive 26385 7 0x00000 ∷ drive 26440 1 0x05243 ∷ drive 26440 7 0x08000 ∷ drive 26440 1 0x01200 ∷ drive 26440 7 0x00000 ∷ drive 26440 1 0x01b00 ∷ drive 26840 1 0x05b00 ∷ drive 26840 7 0x08000 ∷ drive 26840 1 0x01a00 ∷ drive 26840 7 0x00000 ∷ drive 26840 1 0x03b00 ∷ drive 27240 1 0x07b00 ∷ drive 27240 7 0x08000 ∷ drive 27240 1 0x03a00 ∷ drive 27240 7 0x00000 ∷ drive 27240 1 0x00000 ∷ []

abbrev loads_of_three_tapes_guard_events : List Event
loads_of_three_tapes_guard_events = events.Accept (command 1) ∷ events.Run (command 1) ∷ events.End (command 1) 0 ∷ events.Accept (command 2) ∷ events.Run (command 2) ∷ events.End (command 2) 0 ∷ events.Accept (command 3) ∷ events.Run (command 3) ∷ events.End (command 3) 0 ∷ []

abbrev pub loads_of_three_tapes_guard_shown : Shows
loads_of_three_tapes_guard_shown = record { rows = reverse loads_of_three_tapes_guard_rows; history = reverse loads_of_three_tapes_guard_events; ended = true }

loads_of_three_tapes_guard_run : shown (run_by_due loads_of_three_tapes_guard 361) ≡ loads_of_three_tapes_guard_shown
unfolding need_of sent_of ones union_below line_of form_out form_in least run_from
loads_of_three_tapes_guard_run = refl

-- ---- never_behind_a_current_process_guard

abbrev pub never_behind_a_current_process_guard : ScenarioValue
never_behind_a_current_process_guard = record {
  version = 1;
  hosts = record { dev = 7; latency = 0; most = 1; retries = 2; period = 0; offset = 0; lag = 0; offers = true } ∷ record { dev = 6; latency = 0; most = 1; retries = 2; period = 0; offset = 0; lag = 0; offers = true } ∷ [];
  targets = record { dev = 0; latency = 0; retries = 2; disc = policies.Never; pick = picks.First; seek = 9000; period = 0; offset = 0; begins = false } ∷ [];
  units = record { target = 0; unit = 0; blocks = 1; size = 16; depth = 4 } ∷ [];
  fills = [];
  tapes = [];
  loads = [];
  commands = record { host = 6; target = 0; unit = 0; at = 0; tag = tags.Untagged; cdb = (8 ∷ 0 ∷ 0 ∷ 9 ∷ 1 ∷ 0 ∷ []); payload = payloads.Nothing } ∷ record { host = 7; target = 0; unit = 0; at = 5000; tag = tags.Untagged; cdb = (0 ∷ 0 ∷ 0 ∷ 0 ∷ 0 ∷ 0 ∷ []); payload = payloads.Nothing } ∷ record { host = 6; target = 0; unit = 0; at = 0; tag = tags.Untagged; cdb = (0 ∷ 0 ∷ 0 ∷ 0 ∷ 0 ∷ 0 ∷ []); payload = payloads.Nothing } ∷ [];
  aborts = [];
  resets = [];
  faults = [];
}

abbrev pub never_behind_a_current_process_guard_rows : List Row
never_behind_a_current_process_guard_rows = drive 1200 6 0x00240 ∷ drive 3600 6 0x00640 ∷ drive 4800 6 0x10741 ∷ drive 4890 6 0x10541 ∷ drive 5290 0 0x00200 ∷ drive 5380 6 0x10000 ∷ drive 5380 0 0x02a00 ∷ drive 5780 0 0x06a00 ∷ drive 5780 6 0x001c0 ∷ drive 5870 6 0x081c0 ∷ drive 5870 0 0x02a00 ∷ drive 5870 6 0x00000 ∷ drive 5870 0 0x00a00 ∷ drive 6270 0 0x04a00 ∷ drive 6270 6 0x00008 ∷ drive 6325 6 0x08008 ∷ drive 6325 0 0x00a00 ∷ drive 6325 6 0x00000 ∷ drive 6325 0 0x04a00 ∷ drive 6325 6 0x00100 ∷ drive 6380 6 0x08100 ∷ drive 6380 0 0x00a00 ∷ drive 6380 6 0x00000 ∷ drive 6380 0 0x04a00 ∷ drive 6380 6 0x00100 ∷ drive 6435 6 0x08100 ∷ drive 6435 0 0x00a00 ∷ drive 6435 6 0x00000 ∷ drive 6435 0 0x04a00 ∷ drive 6435 6 0x00109 ∷ drive 6490 6 0x08109 ∷ drive 6490 0 0x00a00 ∷ drive 6490 6 0x00000 ∷ drive 6490 0 0x04a00 ∷ drive 6490 6 0x00001 ∷ drive 6545 6 0x08001 ∷ drive 6545 0 0x00a00 ∷ drive 6545 6 0x00000 ∷ drive 6545 0 0x04a00 ∷ drive 6545 6 0x00100 ∷ drive 6600 6 0x08100 ∷ drive 6600 0 0x00a00 ∷ drive 6600 6 0x00000 ∷ drive 15600 0 0x01a00 ∷ drive 16400 0 0x01a02 ∷ drive 16455 0 0x05a02 ∷ drive 16455 6 0x08000 ∷ drive 16455 0 0x01a00 ∷ drive 16455 6 0x00000 ∷ drive 16455 0 0x03b00 ∷ drive 16855 0 0x07b00 ∷ drive 16855 6 0x08000 ∷ drive 16855 0 0x03a00 ∷ drive 16855 6 0x00000 ∷ drive 16855 0 0x00000 ∷ drive 18055 7 0x00280 ∷ drive 18055 6 0x00240 ∷ drive 20455 7 0x00680 ∷ drive 20455 6 0x00000 ∷ drive 21655 7 0x10781 ∷ drive 21745 7 0x10581 ∷ drive 22145 0 0x00200 ∷ drive 22235 7 0x10000 ∷ drive 22235 0 0x02a00 ∷ drive 22635 0 0x06a00 ∷ drive 22635 7 0x001c0 ∷ drive 22725 7 0x081c0 ∷ drive 22725 0 0x02a00 ∷ drive 22725 7 0x00000 ∷ drive 22725 0 0x00a00 ∷ drive 23125 0 0x04a00 ∷ drive 23125 7 0x00100 ∷ drive 23180 7 0x08100 ∷ drive 23180 0 0x00a00 ∷ drive 23180 7 0x00000 ∷ drive 23180 0 0x04a00 ∷ drive 23180 7 0x00100 ∷ drive 23235 7 0x08100 ∷ drive 23235 0 0x00a00 ∷ drive 23235 7 0x00000 ∷ drive 23235 0 0x04a00 ∷ drive 23235 7 0x00100 ∷ drive 23290 7 0x08100 ∷ drive 23290 0 0x00a00 ∷ drive 23290 7 0x00000 ∷ drive 23290 0 0x04a00 ∷ drive 23290 7 0x00100 ∷ drive 23345 7 0x08100 ∷ drive 23345 0 0x00a00 ∷ drive 23345 7 0x00000 ∷ drive 23345 0 0x04a00 ∷ drive 23345 7 0x00100 ∷ drive 23400 7 0x08100 ∷ drive 23400 0 0x00a00 ∷ drive 23400 7 0x00000 ∷ drive 23400 0 0x04a00 ∷ drive 23400 7 0x00100 ∷ drive 23455 7 0x08100 ∷ drive 23455 0 0x00a00 ∷ drive 23455 7 0x00000 ∷ drive 23455 0 0x03a00 ∷ drive 24255 0 0x03a04 ∷ drive 24310 0 0x07a04 ∷ drive 24310 7 0x08000 ∷ drive 24310 0 0x03a00 ∷ drive 24310 7 0x00000 ∷ drive 24310 0 0x00000 ∷ drive 25510 6 0x00240 ∷ drive 27910 6 0x00640 ∷ drive 29110 6 0x10741 ∷ drive 29200 6 0x10541 ∷ drive 29600 0 0x00200 ∷ drive 29690 6 0x10000 ∷ drive 29690 0 0x02a00 ∷ drive 30090 0 0x06a00 ∷ drive 30090 6 0x00080 ∷ drive 30180 6 0x08080 ∷ drive 30180 0 0x02a00 ∷ drive 30180 6 0x00000 ∷ drive 30180 0 0x00a00 ∷ drive 30580 0 0x04a00 ∷ drive 30580 6 0x00103 ∷ drive 30635 6 0x08103 ∷ drive 30635 0 0x00a00 ∷ drive 30635 6 0x00000 ∷ drive 30635 0 0x04a00 ∷ drive 30635 6 0x00100 ∷ drive 30690 6 0x08100 ∷ drive 30690 0 0x00a00 ∷ drive 30690 6 0x00000 ∷ drive 30690 0 0x04a00 ∷ drive 30690 6 0x00100 ∷ drive 30745 6 0x08100 ∷ drive 30745 0 0x00a00 ∷ drive 30745 6 0x00000 ∷ drive 30745 0 0x04a00 ∷ drive 30745 6 0x00100 ∷ drive 30800 6 0x08100 ∷ drive 30800 0 0x00a00 ∷ drive 30800 6 0x00000 ∷ drive 30800 0 0x04a00 ∷ drive 30800 6 0x00112 ∷ drive 30855 6 0x08112 ∷ drive 30855 0 0x00a00 ∷ drive 30855 6 0x00000 ∷ drive 30855 0 0x04a00 ∷ drive 30855 6 0x00100 ∷ drive 30910 6 0x08100 ∷ drive 30910 0 0x00a00 ∷ drive 30910 6 0x00000 ∷ drive 30910 0 0x01200 ∷ drive 31710 0 0x01270 ∷ drive 31765 0 0x05270 ∷ drive 31765 6 0x08000 ∷ drive 31765 0 0x01300 ∷ drive 31765 6 0x00000 ∷ drive 31820 0 0x05300 ∷ drive 31820 6 0x08000 ∷ drive 31820 0 0x01305 ∷ drive 31820 6 0x00000 ∷ drive 31875 0 0x05305 ∷ drive 31875 6 0x08000 ∷ drive 31875 0 0x01300 ∷ drive 31875 6 0x00000 ∷ drive 31930 0 0x05300 ∷ drive 31930 6 0x08000 ∷ drive 31930 0 0x01300 ∷ drive 31930 6 0x00000 ∷ drive 31985 0 0x05300 ∷ drive 31985 6 0x08000 ∷ drive 31985 0 0x01300 ∷ drive 31985 6 0x00000 ∷ drive 32040 0 0x05300 ∷ drive 32040 6 0x08000 ∷ drive 32040 0 0x01300 ∷ drive 32040 6 0x00000 ∷ drive 32095 0 0x05300 ∷ drive 32095 6 0x08000 ∷ drive 32095 0 0x0130a ∷ drive 32095 6 0x00000 ∷ drive 32150 0 0x0530a ∷ drive 32150 6 0x08000 ∷ drive 32150 0 0x01300 ∷ drive 32150 6 0x00000 ∷ drive 32205 0 0x05300 ∷ drive 32205 6 0x08000 ∷ drive 32205 0 0x01300 ∷ drive 32205 6 0x00000 ∷ drive 32260 0 0x05300 ∷ drive 32260 6 0x08000 ∷ drive 32260 0 0x01300 ∷ drive 32260 6 0x00000 ∷ drive 32315 0 0x05300 ∷ drive 32315 6 0x08000 ∷ drive 32315 0 0x01300 ∷ drive 32315 6 0x00000 ∷ drive 32370 0 0x05300 ∷ drive 32370 6 0x08000 ∷ drive 32370 0 0x01321 ∷ drive 32370 6 0x00000 ∷ drive 32425 0 0x05321 ∷ drive 32425 6 0x08000 ∷ drive 32425 0 0x01300 ∷ drive 32425 6 0x00000 ∷ drive 32480 0 0x05300 ∷ drive 32480 6 0x08000 ∷ drive 32480 0 0x01300 ∷ drive 32480 6 0x00000 ∷ drive 32535 0 0x05300 ∷ drive 32535 6 0x08000 ∷ drive 32535 0 0x01300 ∷ drive 32535 6 0x00000 ∷ drive 32590 0 0x05300 ∷ drive 32590 6 0x08000 ∷ drive 32590 0 0x01300 ∷ drive 32590 6 0x00000 ∷ drive 32645 0 0x05300 ∷ drive 32645 6 0x08000 ∷ drive 32645 0 0x01300 ∷ drive 32645 6 0x00000 ∷ drive 32700 0 0x05300 ∷ drive 32700 6 0x08000 ∷ drive 32700 0 0x01200 ∷ drive 32700 6 0x00000 ∷ drive 32700 0 0x01b00 ∷ drive 33100 0 0x05b00 ∷ drive 33100 6 0x08000 ∷ drive 33100 0 0x01a00 ∷ drive 33100 6 0x00000 ∷ drive 33100 0 0x03b00 ∷ drive 33500 0 0x07b00 ∷ drive 33500 6 0x08000 ∷ drive 33500 0 0x03a00 ∷ drive 33500 6 0x00000 ∷ drive 33500 0 0x00000 ∷ drive 34700 6 0x00240 ∷ drive 37100 6 0x00640 ∷ drive 38300 6 0x10741 ∷ drive 38390 6 0x10541 ∷ drive 38790 0 0x00200 ∷ drive 38880 6 0x10000 ∷ drive 38880 0 0x02a00 ∷ drive 39280 0 0x06a00 ∷ drive 39280 6 0x001c0 ∷ drive 39370 6 0x081c0 ∷ drive 39370 0 0x02a00 ∷ drive 39370 6 0x00000 ∷ drive 39370 0 0x00a00 ∷ drive 39770 0 0x04a00 ∷ drive 39770 6 0x00100 ∷ drive 39825 6 0x08100 ∷ drive 39825 0 0x00a00 ∷ drive 39825 6 0x00000 ∷ drive 39825 0 0x04a00 ∷ drive 39825 6 0x00100 ∷ drive 39880 6 0x08100 ∷ drive 39880 0 0x00a00 ∷ drive 39880 6 0x00000 ∷ drive 39880 0 0x04a00 ∷ drive 39880 6 0x00100 ∷ drive 39935 6 0x08100 ∷ drive 39935 0 0x00a00 ∷ drive 39935 6 0x00000 ∷ drive 39935 0 0x04a00 ∷ drive 39935 6 0x00100 ∷ drive 39990 6 0x08100 ∷ drive 39990 0 0x00a00 ∷ drive 39990 6 0x00000 ∷ drive 39990 0 0x04a00 ∷ drive 39990 6 0x00100 ∷ drive 40045 6 0x08100 ∷ drive 40045 0 0x00a00 ∷ drive 40045 6 0x00000 ∷ drive 40045 0 0x04a00 ∷ drive 40045 6 0x00100 ∷ drive 40100 6 0x08100 ∷ drive 40100 0 0x00a00 ∷ drive 40100 6 0x00000 ∷ drive 40100 0 0x03a00 ∷ drive 40900 0 0x03a04 ∷ drive 40955 0 0x07a04 ∷ drive 40955 6 0x08000 ∷ drive 40955 0 0x03a00 ∷ drive 40955 6 0x00000 ∷ drive 40955 0 0x00000 ∷ drive 42500 0 0x00201 ∷ drive 44900 0 0x00601 ∷ drive 46100 0 0x01781 ∷ drive 46190 0 0x01581 ∷ drive 46590 7 0x00200 ∷ drive 46590 0 0x01781 ∷ drive 46680 0 0x03a80 ∷ drive 46680 7 0x00000 ∷ drive 47080 0 0x07a80 ∷ drive 47080 7 0x08000 ∷ drive 47080 0 0x03a00 ∷ drive 47080 7 0x00000 ∷ drive 47080 0 0x01b00 ∷ drive 47480 0 0x05b00 ∷ drive 47480 7 0x08000 ∷ drive 47480 0 0x01a00 ∷ drive 47480 7 0x00000 ∷ drive 47480 0 0x03b00 ∷ drive 47880 0 0x07b00 ∷ drive 47880 7 0x08000 ∷ drive 47880 0 0x03a00 ∷ drive 47880 7 0x00000 ∷ drive 47880 0 0x00000 ∷ drive 56880 0 0x00201 ∷ drive 59280 0 0x00601 ∷ drive 60480 0 0x01741 ∷ drive 60570 0 0x01541 ∷ drive 60970 6 0x00200 ∷ drive 60970 0 0x01741 ∷ drive 61060 0 0x03a80 ∷ drive 61060 6 0x00000 ∷ drive 61460 0 0x07a80 ∷ drive 61460 6 0x08000 ∷ drive 61460 0 0x03a00 ∷ drive 61460 6 0x00000 ∷ drive 61460 0 0x01b00 ∷ drive 61860 0 0x05b00 ∷ drive 61860 6 0x08000 ∷ drive 61860 0 0x01a00 ∷ drive 61860 6 0x00000 ∷ drive 61860 0 0x03b00 ∷ drive 62260 0 0x07b00 ∷ drive 62260 6 0x08000 ∷ drive 62260 0 0x03a00 ∷ drive 62260 6 0x00000 ∷ drive 62260 0 0x00000 ∷ []

abbrev never_behind_a_current_process_guard_events : List Event
never_behind_a_current_process_guard_events = events.Accept (command 1) ∷ events.Run (command 1) ∷ events.End (command 1) 2 ∷ events.Accept (command 2) ∷ events.Accept (sense 1) ∷ events.Run (sense 1) ∷ events.End (sense 1) 0 ∷ events.Accept (command 3) ∷ events.Run (command 2) ∷ events.End (command 2) 0 ∷ events.Run (command 3) ∷ events.End (command 3) 0 ∷ []

abbrev pub never_behind_a_current_process_guard_shown : Shows
never_behind_a_current_process_guard_shown = record { rows = reverse never_behind_a_current_process_guard_rows; history = reverse never_behind_a_current_process_guard_events; ended = true }

never_behind_a_current_process_guard_run : shown (run_by_due never_behind_a_current_process_guard 332) ≡ never_behind_a_current_process_guard_shown
unfolding need_of sent_of ones union_below line_of form_out form_in least run_from
never_behind_a_current_process_guard_run = refl

-- ---- own_sense_and_device_guard

abbrev pub own_sense_and_device_guard : ScenarioValue
own_sense_and_device_guard = record {
  version = 1;
  hosts = record { dev = 7; latency = 0; most = 4; retries = 2; period = 0; offset = 0; lag = 0; offers = true } ∷ [];
  targets = record { dev = 0; latency = 0; retries = 2; disc = policies.Never; pick = picks.First; seek = 0; period = 0; offset = 0; begins = false } ∷ [];
  units = record { target = 0; unit = 0; blocks = 1; size = 16; depth = 4 } ∷ [];
  fills = [];
  tapes = [];
  loads = [];
  commands = record { host = 7; target = 0; unit = 0; at = 0; tag = tags.Untagged; cdb = (8 ∷ 0 ∷ 0 ∷ 1 ∷ 1 ∷ 0 ∷ []); payload = payloads.Nothing } ∷ [];
  aborts = record { host = 7; target = 0; unit = 0; at = 5000; what = aborts.Device } ∷ [];
  resets = [];
  faults = [];
}

abbrev pub own_sense_and_device_guard_rows : List Row
own_sense_and_device_guard_rows = drive 1200 7 0x00280 ∷ drive 3600 7 0x00680 ∷ drive 4800 7 0x10781 ∷ drive 4890 7 0x10581 ∷ drive 5290 0 0x00200 ∷ drive 5380 7 0x10000 ∷ drive 5380 0 0x02a00 ∷ drive 5780 0 0x06a00 ∷ drive 5780 7 0x001c0 ∷ drive 5870 7 0x081c0 ∷ drive 5870 0 0x02a00 ∷ drive 5870 7 0x00000 ∷ drive 5870 0 0x00a00 ∷ drive 6270 0 0x04a00 ∷ drive 6270 7 0x00008 ∷ drive 6325 7 0x08008 ∷ drive 6325 0 0x00a00 ∷ drive 6325 7 0x00000 ∷ drive 6325 0 0x04a00 ∷ drive 6325 7 0x00100 ∷ drive 6380 7 0x08100 ∷ drive 6380 0 0x00a00 ∷ drive 6380 7 0x00000 ∷ drive 6380 0 0x04a00 ∷ drive 6380 7 0x00100 ∷ drive 6435 7 0x08100 ∷ drive 6435 0 0x00a00 ∷ drive 6435 7 0x00000 ∷ drive 6435 0 0x04a00 ∷ drive 6435 7 0x00001 ∷ drive 6490 7 0x08001 ∷ drive 6490 0 0x00a00 ∷ drive 6490 7 0x00000 ∷ drive 6490 0 0x04a00 ∷ drive 6490 7 0x00001 ∷ drive 6545 7 0x08001 ∷ drive 6545 0 0x00a00 ∷ drive 6545 7 0x00000 ∷ drive 6545 0 0x04a00 ∷ drive 6545 7 0x00100 ∷ drive 6600 7 0x08100 ∷ drive 6600 0 0x00a00 ∷ drive 6600 7 0x00000 ∷ drive 6600 0 0x01a00 ∷ drive 7400 0 0x01a02 ∷ drive 7455 0 0x05a02 ∷ drive 7455 7 0x08000 ∷ drive 7455 0 0x01a00 ∷ drive 7455 7 0x00000 ∷ drive 7455 0 0x03b00 ∷ drive 7855 0 0x07b00 ∷ drive 7855 7 0x08000 ∷ drive 7855 0 0x03a00 ∷ drive 7855 7 0x00000 ∷ drive 7855 0 0x00000 ∷ drive 9055 7 0x00280 ∷ drive 11455 7 0x00680 ∷ drive 12655 7 0x10781 ∷ drive 12745 7 0x10581 ∷ drive 13145 0 0x00200 ∷ drive 13235 7 0x10000 ∷ drive 13235 0 0x02a00 ∷ drive 13635 0 0x06a00 ∷ drive 13635 7 0x10080 ∷ drive 13690 7 0x18080 ∷ drive 13690 0 0x02a00 ∷ drive 13690 7 0x10000 ∷ drive 13690 0 0x06a00 ∷ drive 13690 7 0x0010c ∷ drive 13780 7 0x0810c ∷ drive 13780 0 0x02a00 ∷ drive 13780 7 0x00000 ∷ drive 13780 0 0x00000 ∷ []

abbrev own_sense_and_device_guard_events : List Event
own_sense_and_device_guard_events = events.Accept (command 1) ∷ events.Run (command 1) ∷ events.End (command 1) 2 ∷ events.Aborted 7 0 0 aborts.Device ∷ []

abbrev pub own_sense_and_device_guard_shown : Shows
own_sense_and_device_guard_shown = record { rows = reverse own_sense_and_device_guard_rows; history = reverse own_sense_and_device_guard_events; ended = true }

own_sense_and_device_guard_run : shown (run_by_due own_sense_and_device_guard 74) ≡ own_sense_and_device_guard_shown
unfolding need_of sent_of ones union_below line_of form_out form_in least run_from
own_sense_and_device_guard_run = refl

-- ---- own_sense_and_queue_guard

abbrev pub own_sense_and_queue_guard : ScenarioValue
own_sense_and_queue_guard = record {
  version = 1;
  hosts = record { dev = 7; latency = 0; most = 4; retries = 2; period = 0; offset = 0; lag = 0; offers = true } ∷ [];
  targets = record { dev = 0; latency = 0; retries = 2; disc = policies.Never; pick = picks.First; seek = 0; period = 0; offset = 0; begins = false } ∷ [];
  units = record { target = 0; unit = 0; blocks = 1; size = 16; depth = 4 } ∷ [];
  fills = [];
  tapes = [];
  loads = [];
  commands = record { host = 7; target = 0; unit = 0; at = 0; tag = tags.Untagged; cdb = (8 ∷ 0 ∷ 0 ∷ 1 ∷ 1 ∷ 0 ∷ []); payload = payloads.Nothing } ∷ [];
  aborts = record { host = 7; target = 0; unit = 0; at = 5000; what = aborts.WholeQueue } ∷ [];
  resets = [];
  faults = [];
}

abbrev pub own_sense_and_queue_guard_rows : List Row
own_sense_and_queue_guard_rows = drive 1200 7 0x00280 ∷ drive 3600 7 0x00680 ∷ drive 4800 7 0x10781 ∷ drive 4890 7 0x10581 ∷ drive 5290 0 0x00200 ∷ drive 5380 7 0x10000 ∷ drive 5380 0 0x02a00 ∷ drive 5780 0 0x06a00 ∷ drive 5780 7 0x001c0 ∷ drive 5870 7 0x081c0 ∷ drive 5870 0 0x02a00 ∷ drive 5870 7 0x00000 ∷ drive 5870 0 0x00a00 ∷ drive 6270 0 0x04a00 ∷ drive 6270 7 0x00008 ∷ drive 6325 7 0x08008 ∷ drive 6325 0 0x00a00 ∷ drive 6325 7 0x00000 ∷ drive 6325 0 0x04a00 ∷ drive 6325 7 0x00100 ∷ drive 6380 7 0x08100 ∷ drive 6380 0 0x00a00 ∷ drive 6380 7 0x00000 ∷ drive 6380 0 0x04a00 ∷ drive 6380 7 0x00100 ∷ drive 6435 7 0x08100 ∷ drive 6435 0 0x00a00 ∷ drive 6435 7 0x00000 ∷ drive 6435 0 0x04a00 ∷ drive 6435 7 0x00001 ∷ drive 6490 7 0x08001 ∷ drive 6490 0 0x00a00 ∷ drive 6490 7 0x00000 ∷ drive 6490 0 0x04a00 ∷ drive 6490 7 0x00001 ∷ drive 6545 7 0x08001 ∷ drive 6545 0 0x00a00 ∷ drive 6545 7 0x00000 ∷ drive 6545 0 0x04a00 ∷ drive 6545 7 0x00100 ∷ drive 6600 7 0x08100 ∷ drive 6600 0 0x00a00 ∷ drive 6600 7 0x00000 ∷ drive 6600 0 0x01a00 ∷ drive 7400 0 0x01a02 ∷ drive 7455 0 0x05a02 ∷ drive 7455 7 0x08000 ∷ drive 7455 0 0x01a00 ∷ drive 7455 7 0x00000 ∷ drive 7455 0 0x03b00 ∷ drive 7855 0 0x07b00 ∷ drive 7855 7 0x08000 ∷ drive 7855 0 0x03a00 ∷ drive 7855 7 0x00000 ∷ drive 7855 0 0x00000 ∷ drive 9055 7 0x00280 ∷ drive 11455 7 0x00680 ∷ drive 12655 7 0x10781 ∷ drive 12745 7 0x10581 ∷ drive 13145 0 0x00200 ∷ drive 13235 7 0x10000 ∷ drive 13235 0 0x02a00 ∷ drive 13635 0 0x06a00 ∷ drive 13635 7 0x10080 ∷ drive 13690 7 0x18080 ∷ drive 13690 0 0x02a00 ∷ drive 13690 7 0x10000 ∷ drive 13690 0 0x06a00 ∷ drive 13690 7 0x0000e ∷ drive 13780 7 0x0800e ∷ drive 13780 0 0x02a00 ∷ drive 13780 7 0x00000 ∷ drive 13780 0 0x00000 ∷ drive 14980 7 0x00280 ∷ drive 17380 7 0x00680 ∷ drive 18580 7 0x10781 ∷ drive 18670 7 0x10581 ∷ drive 19070 0 0x00200 ∷ drive 19160 7 0x10000 ∷ drive 19160 0 0x02a00 ∷ drive 19560 0 0x06a00 ∷ drive 19560 7 0x00080 ∷ drive 19650 7 0x08080 ∷ drive 19650 0 0x02a00 ∷ drive 19650 7 0x00000 ∷ drive 19650 0 0x00a00 ∷ drive 20050 0 0x04a00 ∷ drive 20050 7 0x00103 ∷ drive 20105 7 0x08103 ∷ drive 20105 0 0x00a00 ∷ drive 20105 7 0x00000 ∷ drive 20105 0 0x04a00 ∷ drive 20105 7 0x00100 ∷ drive 20160 7 0x08100 ∷ drive 20160 0 0x00a00 ∷ drive 20160 7 0x00000 ∷ drive 20160 0 0x04a00 ∷ drive 20160 7 0x00100 ∷ drive 20215 7 0x08100 ∷ drive 20215 0 0x00a00 ∷ drive 20215 7 0x00000 ∷ drive 20215 0 0x04a00 ∷ drive 20215 7 0x00100 ∷ drive 20270 7 0x08100 ∷ drive 20270 0 0x00a00 ∷ drive 20270 7 0x00000 ∷ drive 20270 0 0x04a00 ∷ drive 20270 7 0x00112 ∷ drive 20325 7 0x08112 ∷ drive 20325 0 0x00a00 ∷ drive 20325 7 0x00000 ∷ drive 20325 0 0x04a00 ∷ drive 20325 7 0x00100 ∷ drive 20380 7 0x08100 ∷ drive 20380 0 0x00a00 ∷ drive 20380 7 0x00000 ∷ drive 20380 0 0x01200 ∷ drive 21180 0 0x01270 ∷ drive 21235 0 0x05270 ∷ drive 21235 7 0x08000 ∷ drive 21235 0 0x01300 ∷ drive 21235 7 0x00000 ∷ drive 21290 0 0x05300 ∷ drive 21290 7 0x08000 ∷ drive 21290 0 0x01305 ∷ drive 21290 7 0x00000 ∷ drive 21345 0 0x05305 ∷ drive 21345 7 0x08000 ∷ drive 21345 0 0x01300 ∷ drive 21345 7 0x00000 ∷ drive 21400 0 0x05300 ∷ drive 21400 7 0x08000 ∷ drive 21400 0 0x01300 ∷ drive 21400 7 0x00000 ∷ drive 21455 0 0x05300 ∷ drive 21455 7 0x08000 ∷ drive 21455 0 0x01300 ∷ drive 21455 7 0x00000 ∷ drive 21510 0 0x05300 ∷ drive 21510 7 0x08000 ∷ drive 21510 0 0x01300 ∷ drive 21510 7 0x00000 ∷ drive 21565 0 0x05300 ∷ drive 21565 7 0x08000 ∷ drive 21565 0 0x0130a ∷ drive 21565 7 0x00000 ∷ drive 21620 0 0x0530a ∷ drive 21620 7 0x08000 ∷ drive 21620 0 0x01300 ∷ drive 21620 7 0x00000 ∷ drive 21675 0 0x05300 ∷ drive 21675 7 0x08000 ∷ drive 21675 0 0x01300 ∷ drive 21675 7 0x00000 ∷ drive 21730 0 0x05300 ∷ drive 21730 7 0x08000 ∷ drive 21730 0 0x01300 ∷ drive 21730 7 0x00000 ∷ drive 21785 0 0x05300 ∷ drive 21785 7 0x08000 ∷ drive 21785 0 0x01300 ∷ drive 21785 7 0x00000 ∷ drive 21840 0 0x05300 ∷ drive 21840 7 0x08000 ∷ drive 21840 0 0x01321 ∷ drive 21840 7 0x00000 ∷ drive 21895 0 0x05321 ∷ drive 21895 7 0x08000 ∷ drive 21895 0 0x01300 ∷ drive 21895 7 0x00000 ∷ drive 21950 0 0x05300 ∷ drive 21950 7 0x08000 ∷ drive 21950 0 0x01300 ∷ drive 21950 7 0x00000 ∷ drive 22005 0 0x05300 ∷ drive 22005 7 0x08000 ∷ drive 22005 0 0x01300 ∷ drive 22005 7 0x00000 ∷ drive 22060 0 0x05300 ∷ drive 22060 7 0x08000 ∷ drive 22060 0 0x01300 ∷ drive 22060 7 0x00000 ∷ drive 22115 0 0x05300 ∷ drive 22115 7 0x08000 ∷ drive 22115 0 0x01300 ∷ drive 22115 7 0x00000 ∷ drive 22170 0 0x05300 ∷ drive 22170 7 0x08000 ∷ drive 22170 0 0x01200 ∷ drive 22170 7 0x00000 ∷ drive 22170 0 0x01b00 ∷ drive 22570 0 0x05b00 ∷ drive 22570 7 0x08000 ∷ drive 22570 0 0x01a00 ∷ drive 22570 7 0x00000 ∷ drive 22570 0 0x03b00 ∷ drive 22970 0 0x07b00 ∷ drive 22970 7 0x08000 ∷ drive 22970 0 0x03a00 ∷ drive 22970 7 0x00000 ∷ drive 22970 0 0x00000 ∷ []

abbrev own_sense_and_queue_guard_events : List Event
own_sense_and_queue_guard_events = events.Accept (command 1) ∷ events.Run (command 1) ∷ events.End (command 1) 2 ∷ events.Aborted 7 0 0 aborts.WholeQueue ∷ events.Accept (sense 1) ∷ events.Run (sense 1) ∷ events.End (sense 1) 0 ∷ []

abbrev pub own_sense_and_queue_guard_shown : Shows
own_sense_and_queue_guard_shown = record { rows = reverse own_sense_and_queue_guard_rows; history = reverse own_sense_and_queue_guard_events; ended = true }

own_sense_and_queue_guard_run : shown (run_by_due own_sense_and_queue_guard 202) ≡ own_sense_and_queue_guard_shown
unfolding need_of sent_of ones union_below line_of form_out form_in least run_from
own_sense_and_queue_guard_run = refl

-- ---- own_sense_and_tag_guard

abbrev pub own_sense_and_tag_guard : ScenarioValue
own_sense_and_tag_guard = record {
  version = 1;
  hosts = record { dev = 7; latency = 0; most = 4; retries = 2; period = 0; offset = 0; lag = 0; offers = true } ∷ [];
  targets = record { dev = 0; latency = 0; retries = 2; disc = policies.Never; pick = picks.First; seek = 0; period = 0; offset = 0; begins = false } ∷ [];
  units = record { target = 0; unit = 0; blocks = 1; size = 16; depth = 4 } ∷ [];
  fills = [];
  tapes = [];
  loads = [];
  commands = record { host = 7; target = 0; unit = 0; at = 0; tag = tags.Untagged; cdb = (8 ∷ 0 ∷ 0 ∷ 1 ∷ 1 ∷ 0 ∷ []); payload = payloads.Nothing } ∷ [];
  aborts = record { host = 7; target = 0; unit = 0; at = 5000; what = (aborts.Tag 5) } ∷ [];
  resets = [];
  faults = [];
}

abbrev pub own_sense_and_tag_guard_rows : List Row
own_sense_and_tag_guard_rows = drive 1200 7 0x00280 ∷ drive 3600 7 0x00680 ∷ drive 4800 7 0x10781 ∷ drive 4890 7 0x10581 ∷ drive 5290 0 0x00200 ∷ drive 5380 7 0x10000 ∷ drive 5380 0 0x02a00 ∷ drive 5780 0 0x06a00 ∷ drive 5780 7 0x001c0 ∷ drive 5870 7 0x081c0 ∷ drive 5870 0 0x02a00 ∷ drive 5870 7 0x00000 ∷ drive 5870 0 0x00a00 ∷ drive 6270 0 0x04a00 ∷ drive 6270 7 0x00008 ∷ drive 6325 7 0x08008 ∷ drive 6325 0 0x00a00 ∷ drive 6325 7 0x00000 ∷ drive 6325 0 0x04a00 ∷ drive 6325 7 0x00100 ∷ drive 6380 7 0x08100 ∷ drive 6380 0 0x00a00 ∷ drive 6380 7 0x00000 ∷ drive 6380 0 0x04a00 ∷ drive 6380 7 0x00100 ∷ drive 6435 7 0x08100 ∷ drive 6435 0 0x00a00 ∷ drive 6435 7 0x00000 ∷ drive 6435 0 0x04a00 ∷ drive 6435 7 0x00001 ∷ drive 6490 7 0x08001 ∷ drive 6490 0 0x00a00 ∷ drive 6490 7 0x00000 ∷ drive 6490 0 0x04a00 ∷ drive 6490 7 0x00001 ∷ drive 6545 7 0x08001 ∷ drive 6545 0 0x00a00 ∷ drive 6545 7 0x00000 ∷ drive 6545 0 0x04a00 ∷ drive 6545 7 0x00100 ∷ drive 6600 7 0x08100 ∷ drive 6600 0 0x00a00 ∷ drive 6600 7 0x00000 ∷ drive 6600 0 0x01a00 ∷ drive 7400 0 0x01a02 ∷ drive 7455 0 0x05a02 ∷ drive 7455 7 0x08000 ∷ drive 7455 0 0x01a00 ∷ drive 7455 7 0x00000 ∷ drive 7455 0 0x03b00 ∷ drive 7855 0 0x07b00 ∷ drive 7855 7 0x08000 ∷ drive 7855 0 0x03a00 ∷ drive 7855 7 0x00000 ∷ drive 7855 0 0x00000 ∷ drive 9055 7 0x00280 ∷ drive 11455 7 0x00680 ∷ drive 12655 7 0x10781 ∷ drive 12745 7 0x10581 ∷ drive 13145 0 0x00200 ∷ drive 13235 7 0x10000 ∷ drive 13235 0 0x02a00 ∷ drive 13635 0 0x06a00 ∷ drive 13635 7 0x10080 ∷ drive 13690 7 0x18080 ∷ drive 13690 0 0x02a00 ∷ drive 13690 7 0x10000 ∷ drive 13690 0 0x06a00 ∷ drive 13690 7 0x10020 ∷ drive 13745 7 0x18020 ∷ drive 13745 0 0x02a00 ∷ drive 13745 7 0x10000 ∷ drive 13745 0 0x06a00 ∷ drive 13745 7 0x10105 ∷ drive 13800 7 0x18105 ∷ drive 13800 0 0x02a00 ∷ drive 13800 7 0x10000 ∷ drive 13800 0 0x06a00 ∷ drive 13800 7 0x0000d ∷ drive 13890 7 0x0800d ∷ drive 13890 0 0x02a00 ∷ drive 13890 7 0x00000 ∷ drive 13890 0 0x00000 ∷ drive 15090 7 0x00280 ∷ drive 17490 7 0x00680 ∷ drive 18690 7 0x10781 ∷ drive 18780 7 0x10581 ∷ drive 19180 0 0x00200 ∷ drive 19270 7 0x10000 ∷ drive 19270 0 0x02a00 ∷ drive 19670 0 0x06a00 ∷ drive 19670 7 0x00080 ∷ drive 19760 7 0x08080 ∷ drive 19760 0 0x02a00 ∷ drive 19760 7 0x00000 ∷ drive 19760 0 0x00a00 ∷ drive 20160 0 0x04a00 ∷ drive 20160 7 0x00103 ∷ drive 20215 7 0x08103 ∷ drive 20215 0 0x00a00 ∷ drive 20215 7 0x00000 ∷ drive 20215 0 0x04a00 ∷ drive 20215 7 0x00100 ∷ drive 20270 7 0x08100 ∷ drive 20270 0 0x00a00 ∷ drive 20270 7 0x00000 ∷ drive 20270 0 0x04a00 ∷ drive 20270 7 0x00100 ∷ drive 20325 7 0x08100 ∷ drive 20325 0 0x00a00 ∷ drive 20325 7 0x00000 ∷ drive 20325 0 0x04a00 ∷ drive 20325 7 0x00100 ∷ drive 20380 7 0x08100 ∷ drive 20380 0 0x00a00 ∷ drive 20380 7 0x00000 ∷ drive 20380 0 0x04a00 ∷ drive 20380 7 0x00112 ∷ drive 20435 7 0x08112 ∷ drive 20435 0 0x00a00 ∷ drive 20435 7 0x00000 ∷ drive 20435 0 0x04a00 ∷ drive 20435 7 0x00100 ∷ drive 20490 7 0x08100 ∷ drive 20490 0 0x00a00 ∷ drive 20490 7 0x00000 ∷ drive 20490 0 0x01200 ∷ drive 21290 0 0x01270 ∷ drive 21345 0 0x05270 ∷ drive 21345 7 0x08000 ∷ drive 21345 0 0x01300 ∷ drive 21345 7 0x00000 ∷ drive 21400 0 0x05300 ∷ drive 21400 7 0x08000 ∷ drive 21400 0 0x01305 ∷ drive 21400 7 0x00000 ∷ drive 21455 0 0x05305 ∷ drive 21455 7 0x08000 ∷ drive 21455 0 0x01300 ∷ drive 21455 7 0x00000 ∷ drive 21510 0 0x05300 ∷ drive 21510 7 0x08000 ∷ drive 21510 0 0x01300 ∷ drive 21510 7 0x00000 ∷ drive 21565 0 0x05300 ∷ drive 21565 7 0x08000 ∷ drive 21565 0 0x01300 ∷ drive 21565 7 0x00000 ∷ drive 21620 0 0x05300 ∷ drive 21620 7 0x08000 ∷ drive 21620 0 0x01300 ∷ drive 21620 7 0x00000 ∷ drive 21675 0 0x05300 ∷ drive 21675 7 0x08000 ∷ drive 21675 0 0x0130a ∷ drive 21675 7 0x00000 ∷ drive 21730 0 0x0530a ∷ drive 21730 7 0x08000 ∷ drive 21730 0 0x01300 ∷ drive 21730 7 0x00000 ∷ drive 21785 0 0x05300 ∷ drive 21785 7 0x08000 ∷ drive 21785 0 0x01300 ∷ drive 21785 7 0x00000 ∷ drive 21840 0 0x05300 ∷ drive 21840 7 0x08000 ∷ drive 21840 0 0x01300 ∷ drive 21840 7 0x00000 ∷ drive 21895 0 0x05300 ∷ drive 21895 7 0x08000 ∷ drive 21895 0 0x01300 ∷ drive 21895 7 0x00000 ∷ drive 21950 0 0x05300 ∷ drive 21950 7 0x08000 ∷ drive 21950 0 0x01321 ∷ drive 21950 7 0x00000 ∷ drive 22005 0 0x05321 ∷ drive 22005 7 0x08000 ∷ drive 22005 0 0x01300 ∷ drive 22005 7 0x00000 ∷ drive 22060 0 0x05300 ∷ drive 22060 7 0x08000 ∷ drive 22060 0 0x01300 ∷ drive 22060 7 0x00000 ∷ drive 22115 0 0x05300 ∷ drive 22115 7 0x08000 ∷ drive 22115 0 0x01300 ∷ drive 22115 7 0x00000 ∷ drive 22170 0 0x05300 ∷ drive 22170 7 0x08000 ∷ drive 22170 0 0x01300 ∷ drive 22170 7 0x00000 ∷ drive 22225 0 0x05300 ∷ drive 22225 7 0x08000 ∷ drive 22225 0 0x01300 ∷ drive 22225 7 0x00000 ∷ drive 22280 0 0x05300 ∷ drive 22280 7 0x08000 ∷ drive 22280 0 0x01200 ∷ drive 22280 7 0x00000 ∷ drive 22280 0 0x01b00 ∷ drive 22680 0 0x05b00 ∷ drive 22680 7 0x08000 ∷ drive 22680 0 0x01a00 ∷ drive 22680 7 0x00000 ∷ drive 22680 0 0x03b00 ∷ drive 23080 0 0x07b00 ∷ drive 23080 7 0x08000 ∷ drive 23080 0 0x03a00 ∷ drive 23080 7 0x00000 ∷ drive 23080 0 0x00000 ∷ []

abbrev own_sense_and_tag_guard_events : List Event
own_sense_and_tag_guard_events = events.Accept (command 1) ∷ events.Run (command 1) ∷ events.End (command 1) 2 ∷ events.Aborted 7 0 0 (aborts.Tag 5) ∷ events.Accept (sense 1) ∷ events.Run (sense 1) ∷ events.End (sense 1) 0 ∷ []

abbrev pub own_sense_and_tag_guard_shown : Shows
own_sense_and_tag_guard_shown = record { rows = reverse own_sense_and_tag_guard_rows; history = reverse own_sense_and_tag_guard_events; ended = true }

own_sense_and_tag_guard_run : shown (run_by_due own_sense_and_tag_guard 212) ≡ own_sense_and_tag_guard_shown
unfolding need_of sent_of ones union_below line_of form_out form_in least run_from
own_sense_and_tag_guard_run = refl

-- ---- pick_of_each_target_guard

abbrev pub pick_of_each_target_guard : ScenarioValue
pick_of_each_target_guard = record {
  version = 1;
  hosts = record { dev = 7; latency = 0; most = 8; retries = 2; period = 0; offset = 0; lag = 0; offers = true } ∷ [];
  targets = record { dev = 0; latency = 0; retries = 2; disc = policies.Command; pick = picks.First; seek = 20000; period = 0; offset = 0; begins = false } ∷ record { dev = 1; latency = 0; retries = 2; disc = policies.Command; pick = picks.Last; seek = 60000; period = 0; offset = 0; begins = false } ∷ [];
  units = record { target = 1; unit = 0; blocks = 1; size = 16; depth = 8 } ∷ [];
  fills = [];
  tapes = [];
  loads = [];
  commands = record { host = 7; target = 1; unit = 0; at = 0; tag = tags.Simple 1; cdb = (0 ∷ 0 ∷ 0 ∷ 0 ∷ 0 ∷ 0 ∷ []); payload = payloads.Nothing } ∷ record { host = 7; target = 1; unit = 0; at = 0; tag = tags.Simple 2; cdb = (0 ∷ 0 ∷ 0 ∷ 0 ∷ 0 ∷ 0 ∷ []); payload = payloads.Nothing } ∷ record { host = 7; target = 1; unit = 0; at = 0; tag = tags.Simple 3; cdb = (0 ∷ 0 ∷ 0 ∷ 0 ∷ 0 ∷ 0 ∷ []); payload = payloads.Nothing } ∷ [];
  aborts = [];
  resets = [];
  faults = [];
}

abbrev pub pick_of_each_target_guard_rows : List Row
pick_of_each_target_guard_rows = drive 1200 7 0x00280 ∷ drive 3600 7 0x00680 ∷ drive 4800 7 0x10782 ∷ drive 4890 7 0x10582 ∷ drive 5290 1 0x00200 ∷ drive 5380 7 0x10000 ∷ drive 5380 1 0x02a00 ∷ drive 5780 1 0x06a00 ∷ drive 5780 7 0x101c0 ∷ drive 5835 7 0x181c0 ∷ drive 5835 1 0x02a00 ∷ drive 5835 7 0x10000 ∷ drive 5835 1 0x06a00 ∷ drive 5835 7 0x10020 ∷ drive 5890 7 0x18020 ∷ drive 5890 1 0x02a00 ∷ drive 5890 7 0x10000 ∷ drive 5890 1 0x06a00 ∷ drive 5890 7 0x00001 ∷ drive 5980 7 0x08001 ∷ drive 5980 1 0x02a00 ∷ drive 5980 7 0x00000 ∷ drive 5980 1 0x00a00 ∷ drive 6380 1 0x04a00 ∷ drive 6380 7 0x00100 ∷ drive 6435 7 0x08100 ∷ drive 6435 1 0x00a00 ∷ drive 6435 7 0x00000 ∷ drive 6435 1 0x04a00 ∷ drive 6435 7 0x00100 ∷ drive 6490 7 0x08100 ∷ drive 6490 1 0x00a00 ∷ drive 6490 7 0x00000 ∷ drive 6490 1 0x04a00 ∷ drive 6490 7 0x00100 ∷ drive 6545 7 0x08100 ∷ drive 6545 1 0x00a00 ∷ drive 6545 7 0x00000 ∷ drive 6545 1 0x04a00 ∷ drive 6545 7 0x00100 ∷ drive 6600 7 0x08100 ∷ drive 6600 1 0x00a00 ∷ drive 6600 7 0x00000 ∷ drive 6600 1 0x04a00 ∷ drive 6600 7 0x00100 ∷ drive 6655 7 0x08100 ∷ drive 6655 1 0x00a00 ∷ drive 6655 7 0x00000 ∷ drive 6655 1 0x04a00 ∷ drive 6655 7 0x00100 ∷ drive 6710 7 0x08100 ∷ drive 6710 1 0x00a00 ∷ drive 6710 7 0x00000 ∷ drive 6710 1 0x03a00 ∷ drive 7510 1 0x03a04 ∷ drive 7565 1 0x07a04 ∷ drive 7565 7 0x08000 ∷ drive 7565 1 0x03a00 ∷ drive 7565 7 0x00000 ∷ drive 7565 1 0x00000 ∷ drive 8765 7 0x00280 ∷ drive 11165 7 0x00680 ∷ drive 12365 7 0x10782 ∷ drive 12455 7 0x10582 ∷ drive 12855 1 0x00200 ∷ drive 12945 7 0x10000 ∷ drive 12945 1 0x02a00 ∷ drive 13345 1 0x06a00 ∷ drive 13345 7 0x101c0 ∷ drive 13400 7 0x181c0 ∷ drive 13400 1 0x02a00 ∷ drive 13400 7 0x10000 ∷ drive 13400 1 0x06a00 ∷ drive 13400 7 0x10020 ∷ drive 13455 7 0x18020 ∷ drive 13455 1 0x02a00 ∷ drive 13455 7 0x10000 ∷ drive 13455 1 0x06a00 ∷ drive 13455 7 0x00002 ∷ drive 13545 7 0x08002 ∷ drive 13545 1 0x02a00 ∷ drive 13545 7 0x00000 ∷ drive 13545 1 0x00a00 ∷ drive 13945 1 0x04a00 ∷ drive 13945 7 0x00100 ∷ drive 14000 7 0x08100 ∷ drive 14000 1 0x00a00 ∷ drive 14000 7 0x00000 ∷ drive 14000 1 0x04a00 ∷ drive 14000 7 0x00100 ∷ drive 14055 7 0x08100 ∷ drive 14055 1 0x00a00 ∷ drive 14055 7 0x00000 ∷ drive 14055 1 0x04a00 ∷ drive 14055 7 0x00100 ∷ drive 14110 7 0x08100 ∷ drive 14110 1 0x00a00 ∷ drive 14110 7 0x00000 ∷ drive 14110 1 0x04a00 ∷ drive 14110 7 0x00100 ∷ drive 14165 7 0x08100 ∷ drive 14165 1 0x00a00 ∷ drive 14165 7 0x00000 ∷ drive 14165 1 0x04a00 ∷ drive 14165 7 0x00100 ∷ drive 14220 7 0x08100 ∷ drive 14220 1 0x00a00 ∷ drive 14220 7 0x00000 ∷ drive 14220 1 0x04a00 ∷ drive 14220 7 0x00100 ∷ drive 14275 7 0x08100 ∷ drive 14275 1 0x00a00 ∷ drive 14275 7 0x00000 ∷ drive 14275 1 0x03a00 ∷ drive 15075 1 0x03a04 ∷ drive 15130 1 0x07a04 ∷ drive 15130 7 0x08000 ∷ drive 15130 1 0x03a00 ∷ drive 15130 7 0x00000 ∷ drive 15130 1 0x00000 ∷ drive 16330 7 0x00280 ∷ drive 18730 7 0x00680 ∷ drive 19930 7 0x10782 ∷ drive 20020 7 0x10582 ∷ drive 20420 1 0x00200 ∷ drive 20510 7 0x10000 ∷ drive 20510 1 0x02a00 ∷ drive 20910 1 0x06a00 ∷ drive 20910 7 0x101c0 ∷ drive 20965 7 0x181c0 ∷ drive 20965 1 0x02a00 ∷ drive 20965 7 0x10000 ∷ drive 20965 1 0x06a00 ∷ drive 20965 7 0x10020 ∷ drive 21020 7 0x18020 ∷ drive 21020 1 0x02a00 ∷ drive 21020 7 0x10000 ∷ drive 21020 1 0x06a00 ∷ drive 21020 7 0x00103 ∷ drive 21110 7 0x08103 ∷ drive 21110 1 0x02a00 ∷ drive 21110 7 0x00000 ∷ drive 21110 1 0x00a00 ∷ drive 21510 1 0x04a00 ∷ drive 21510 7 0x00100 ∷ drive 21565 7 0x08100 ∷ drive 21565 1 0x00a00 ∷ drive 21565 7 0x00000 ∷ drive 21565 1 0x04a00 ∷ drive 21565 7 0x00100 ∷ drive 21620 7 0x08100 ∷ drive 21620 1 0x00a00 ∷ drive 21620 7 0x00000 ∷ drive 21620 1 0x04a00 ∷ drive 21620 7 0x00100 ∷ drive 21675 7 0x08100 ∷ drive 21675 1 0x00a00 ∷ drive 21675 7 0x00000 ∷ drive 21675 1 0x04a00 ∷ drive 21675 7 0x00100 ∷ drive 21730 7 0x08100 ∷ drive 21730 1 0x00a00 ∷ drive 21730 7 0x00000 ∷ drive 21730 1 0x04a00 ∷ drive 21730 7 0x00100 ∷ drive 21785 7 0x08100 ∷ drive 21785 1 0x00a00 ∷ drive 21785 7 0x00000 ∷ drive 21785 1 0x04a00 ∷ drive 21785 7 0x00100 ∷ drive 21840 7 0x08100 ∷ drive 21840 1 0x00a00 ∷ drive 21840 7 0x00000 ∷ drive 21840 1 0x03a00 ∷ drive 22640 1 0x03a04 ∷ drive 22695 1 0x07a04 ∷ drive 22695 7 0x08000 ∷ drive 22695 1 0x03a00 ∷ drive 22695 7 0x00000 ∷ drive 22695 1 0x00000 ∷ drive 66710 1 0x00202 ∷ drive 69110 1 0x00602 ∷ drive 70310 1 0x01782 ∷ drive 70400 1 0x01582 ∷ drive 70800 7 0x00200 ∷ drive 70800 1 0x01782 ∷ drive 70890 1 0x03a80 ∷ drive 70890 7 0x00000 ∷ drive 71290 1 0x07a80 ∷ drive 71290 7 0x08000 ∷ drive 71290 1 0x03a20 ∷ drive 71290 7 0x00000 ∷ drive 71345 1 0x07a20 ∷ drive 71345 7 0x08000 ∷ drive 71345 1 0x03a01 ∷ drive 71345 7 0x00000 ∷ drive 71400 1 0x07a01 ∷ drive 71400 7 0x08000 ∷ drive 71400 1 0x03a00 ∷ drive 71400 7 0x00000 ∷ drive 71400 1 0x01b00 ∷ drive 71800 1 0x05b00 ∷ drive 71800 7 0x08000 ∷ drive 71800 1 0x01a00 ∷ drive 71800 7 0x00000 ∷ drive 71800 1 0x03b00 ∷ drive 72200 1 0x07b00 ∷ drive 72200 7 0x08000 ∷ drive 72200 1 0x03a00 ∷ drive 72200 7 0x00000 ∷ drive 72200 1 0x00000 ∷ drive 132200 1 0x00202 ∷ drive 134600 1 0x00602 ∷ drive 135800 1 0x01782 ∷ drive 135890 1 0x01582 ∷ drive 136290 7 0x00200 ∷ drive 136290 1 0x01782 ∷ drive 136380 1 0x03a80 ∷ drive 136380 7 0x00000 ∷ drive 136780 1 0x07a80 ∷ drive 136780 7 0x08000 ∷ drive 136780 1 0x03a20 ∷ drive 136780 7 0x00000 ∷ drive 136835 1 0x07a20 ∷ drive 136835 7 0x08000 ∷ drive 136835 1 0x03b03 ∷ drive 136835 7 0x00000 ∷ drive 136890 1 0x07b03 ∷ drive 136890 7 0x08000 ∷ drive 136890 1 0x03a00 ∷ drive 136890 7 0x00000 ∷ drive 136890 1 0x01b00 ∷ drive 137290 1 0x05b00 ∷ drive 137290 7 0x08000 ∷ drive 137290 1 0x01a00 ∷ drive 137290 7 0x00000 ∷ drive 137290 1 0x03b00 ∷ drive 137690 1 0x07b00 ∷ drive 137690 7 0x08000 ∷ drive 137690 1 0x03a00 ∷ drive 137690 7 0x00000 ∷ drive 137690 1 0x00000 ∷ drive 197690 1 0x00202 ∷ drive 200090 1 0x00602 ∷ drive 201290 1 0x01782 ∷ drive 201380 1 0x01582 ∷ drive 201780 7 0x00200 ∷ drive 201780 1 0x01782 ∷ drive 201870 1 0x03a80 ∷ drive 201870 7 0x00000 ∷ drive 202270 1 0x07a80 ∷ drive 202270 7 0x08000 ∷ drive 202270 1 0x03a20 ∷ drive 202270 7 0x00000 ∷ drive 202325 1 0x07a20 ∷ drive 202325 7 0x08000 ∷ drive 202325 1 0x03a02 ∷ drive 202325 7 0x00000 ∷ drive 202380 1 0x07a02 ∷ drive 202380 7 0x08000 ∷ drive 202380 1 0x03a00 ∷ drive 202380 7 0x00000 ∷ drive 202380 1 0x01b00 ∷ drive 202780 1 0x05b00 ∷ drive 202780 7 0x08000 ∷ drive 202780 1 0x01a00 ∷ drive 202780 7 0x00000 ∷ drive 202780 1 0x03b00 ∷ drive 203180 1 0x07b00 ∷ drive 203180 7 0x08000 ∷ drive 203180 1 0x03a00 ∷ drive 203180 7 0x00000 ∷ drive 203180 1 0x00000 ∷ []

abbrev pick_of_each_target_guard_events : List Event
pick_of_each_target_guard_events = events.Accept (command 1) ∷ events.Accept (command 2) ∷ events.Accept (command 3) ∷ events.Run (command 1) ∷ events.End (command 1) 0 ∷ events.Run (command 3) ∷ events.End (command 3) 0 ∷ events.Run (command 2) ∷ events.End (command 2) 0 ∷ []

abbrev pub pick_of_each_target_guard_shown : Shows
pick_of_each_target_guard_shown = record { rows = reverse pick_of_each_target_guard_rows; history = reverse pick_of_each_target_guard_events; ended = true }

pick_of_each_target_guard_run : shown (run_by_due pick_of_each_target_guard 274) ≡ pick_of_each_target_guard_shown
unfolding need_of sent_of ones union_below line_of form_out form_in least run_from
pick_of_each_target_guard_run = refl

-- ---- queue_of_another_keeps_the_agreement_guard

abbrev pub queue_of_another_keeps_the_agreement_guard : ScenarioValue
queue_of_another_keeps_the_agreement_guard = record {
  version = 1;
  hosts = record { dev = 7; latency = 0; most = 4; retries = 2; period = 0; offset = 0; lag = 0; offers = true } ∷ record { dev = 6; latency = 0; most = 4; retries = 2; period = 50; offset = 8; lag = 0; offers = true } ∷ [];
  targets = record { dev = 0; latency = 0; retries = 2; disc = policies.Never; pick = picks.First; seek = 0; period = 50; offset = 8; begins = false } ∷ [];
  units = record { target = 0; unit = 0; blocks = 1; size = 16; depth = 4 } ∷ [];
  fills = [];
  tapes = [];
  loads = [];
  commands = record { host = 6; target = 0; unit = 0; at = 0; tag = tags.Untagged; cdb = (8 ∷ 0 ∷ 0 ∷ 0 ∷ 1 ∷ 0 ∷ []); payload = payloads.Nothing } ∷ record { host = 6; target = 0; unit = 0; at = 100000; tag = tags.Untagged; cdb = (8 ∷ 0 ∷ 0 ∷ 0 ∷ 1 ∷ 0 ∷ []); payload = payloads.Nothing } ∷ [];
  aborts = record { host = 7; target = 0; unit = 0; at = 50000; what = aborts.WholeQueue } ∷ [];
  resets = [];
  faults = [];
}

abbrev pub queue_of_another_keeps_the_agreement_guard_rows : List Row
queue_of_another_keeps_the_agreement_guard_rows = drive 1200 6 0x00240 ∷ drive 3600 6 0x00640 ∷ drive 4800 6 0x10741 ∷ drive 4890 6 0x10541 ∷ drive 5290 0 0x00200 ∷ drive 5380 6 0x10000 ∷ drive 5380 0 0x02a00 ∷ drive 5780 0 0x06a00 ∷ drive 5780 6 0x101c0 ∷ drive 5835 6 0x181c0 ∷ drive 5835 0 0x02a00 ∷ drive 5835 6 0x10000 ∷ drive 5835 0 0x06a00 ∷ drive 5835 6 0x10001 ∷ drive 5890 6 0x18001 ∷ drive 5890 0 0x02a00 ∷ drive 5890 6 0x10000 ∷ drive 5890 0 0x06a00 ∷ drive 5890 6 0x10103 ∷ drive 5945 6 0x18103 ∷ drive 5945 0 0x02a00 ∷ drive 5945 6 0x10000 ∷ drive 5945 0 0x06a00 ∷ drive 5945 6 0x10001 ∷ drive 6000 6 0x18001 ∷ drive 6000 0 0x02a00 ∷ drive 6000 6 0x10000 ∷ drive 6000 0 0x06a00 ∷ drive 6000 6 0x10032 ∷ drive 6055 6 0x18032 ∷ drive 6055 0 0x02a00 ∷ drive 6055 6 0x10000 ∷ drive 6055 0 0x06a00 ∷ drive 6055 6 0x00008 ∷ drive 6145 6 0x08008 ∷ drive 6145 0 0x02a00 ∷ drive 6145 6 0x00000 ∷ drive 6145 0 0x03a00 ∷ drive 6945 0 0x03a01 ∷ drive 7000 0 0x07a01 ∷ drive 7000 6 0x08000 ∷ drive 7000 0 0x03b03 ∷ drive 7000 6 0x00000 ∷ drive 7055 0 0x07b03 ∷ drive 7055 6 0x08000 ∷ drive 7055 0 0x03a01 ∷ drive 7055 6 0x00000 ∷ drive 7110 0 0x07a01 ∷ drive 7110 6 0x08000 ∷ drive 7110 0 0x03a32 ∷ drive 7110 6 0x00000 ∷ drive 7165 0 0x07a32 ∷ drive 7165 6 0x08000 ∷ drive 7165 0 0x03a08 ∷ drive 7165 6 0x00000 ∷ drive 7220 0 0x07a08 ∷ drive 7220 6 0x08000 ∷ drive 7220 0 0x03a00 ∷ drive 7220 6 0x00000 ∷ drive 7220 0 0x00a00 ∷ drive 7620 0 0x04a00 ∷ drive 7620 6 0x00008 ∷ drive 7675 6 0x08008 ∷ drive 7675 0 0x00a00 ∷ drive 7675 6 0x00000 ∷ drive 7675 0 0x04a00 ∷ drive 7675 6 0x00100 ∷ drive 7730 6 0x08100 ∷ drive 7730 0 0x00a00 ∷ drive 7730 6 0x00000 ∷ drive 7730 0 0x04a00 ∷ drive 7730 6 0x00100 ∷ drive 7785 6 0x08100 ∷ drive 7785 0 0x00a00 ∷ drive 7785 6 0x00000 ∷ drive 7785 0 0x04a00 ∷ drive 7785 6 0x00100 ∷ drive 7840 6 0x08100 ∷ drive 7840 0 0x00a00 ∷ drive 7840 6 0x00000 ∷ drive 7840 0 0x04a00 ∷ drive 7840 6 0x00001 ∷ drive 7895 6 0x08001 ∷ drive 7895 0 0x00a00 ∷ drive 7895 6 0x00000 ∷ drive 7895 0 0x04a00 ∷ drive 7895 6 0x00100 ∷ drive 7950 6 0x08100 ∷ drive 7950 0 0x00a00 ∷ drive 7950 6 0x00000 ∷ drive 7950 0 0x01200 ∷ drive 8750 0 0x01300 ∷ drive 8805 0 0x05300 ∷ drive 8805 6 0x08000 ∷ drive 8895 6 0x00000 ∷ drive 8895 0 0x01300 ∷ drive 9005 0 0x05300 ∷ drive 9005 6 0x08000 ∷ drive 9095 6 0x00000 ∷ drive 9095 0 0x01300 ∷ drive 9205 0 0x05300 ∷ drive 9205 6 0x08000 ∷ drive 9295 6 0x00000 ∷ drive 9295 0 0x01300 ∷ drive 9405 0 0x05300 ∷ drive 9405 6 0x08000 ∷ drive 9495 6 0x00000 ∷ drive 9495 0 0x01300 ∷ drive 9605 0 0x05300 ∷ drive 9605 6 0x08000 ∷ drive 9695 6 0x00000 ∷ drive 9695 0 0x01300 ∷ drive 9805 0 0x05300 ∷ drive 9805 6 0x08000 ∷ drive 9895 6 0x00000 ∷ drive 9895 0 0x01300 ∷ drive 10005 0 0x05300 ∷ drive 10005 6 0x08000 ∷ drive 10095 6 0x00000 ∷ drive 10095 0 0x01300 ∷ drive 10205 0 0x05300 ∷ drive 10205 6 0x08000 ∷ drive 10295 6 0x00000 ∷ drive 10295 0 0x01300 ∷ drive 10405 0 0x05300 ∷ drive 10405 6 0x08000 ∷ drive 10495 6 0x00000 ∷ drive 10495 0 0x01300 ∷ drive 10605 0 0x05300 ∷ drive 10605 6 0x08000 ∷ drive 10695 6 0x00000 ∷ drive 10695 0 0x01300 ∷ drive 10805 0 0x05300 ∷ drive 10805 6 0x08000 ∷ drive 10895 6 0x00000 ∷ drive 10895 0 0x01300 ∷ drive 11005 0 0x05300 ∷ drive 11005 6 0x08000 ∷ drive 11095 6 0x00000 ∷ drive 11095 0 0x01300 ∷ drive 11205 0 0x05300 ∷ drive 11205 6 0x08000 ∷ drive 11295 6 0x00000 ∷ drive 11295 0 0x01300 ∷ drive 11405 0 0x05300 ∷ drive 11405 6 0x08000 ∷ drive 11495 6 0x00000 ∷ drive 11495 0 0x01300 ∷ drive 11605 0 0x05300 ∷ drive 11605 6 0x08000 ∷ drive 11695 6 0x00000 ∷ drive 11695 0 0x01300 ∷ drive 11805 0 0x05300 ∷ drive 11805 6 0x08000 ∷ drive 11895 6 0x00000 ∷ drive 11895 0 0x01300 ∷ drive 11905 0 0x01200 ∷ drive 11905 0 0x01b00 ∷ drive 12305 0 0x05b00 ∷ drive 12305 6 0x08000 ∷ drive 12305 0 0x01a00 ∷ drive 12305 6 0x00000 ∷ drive 12305 0 0x03b00 ∷ drive 12705 0 0x07b00 ∷ drive 12705 6 0x08000 ∷ drive 12705 0 0x03a00 ∷ drive 12705 6 0x00000 ∷ drive 12705 0 0x00000 ∷ drive 50000 7 0x00280 ∷ drive 52400 7 0x00680 ∷ drive 53600 7 0x10781 ∷ drive 53690 7 0x10581 ∷ drive 54090 0 0x00200 ∷ drive 54180 7 0x10000 ∷ drive 54180 0 0x02a00 ∷ drive 54580 0 0x06a00 ∷ drive 54580 7 0x10080 ∷ drive 54635 7 0x18080 ∷ drive 54635 0 0x02a00 ∷ drive 54635 7 0x10000 ∷ drive 54635 0 0x06a00 ∷ drive 54635 7 0x0000e ∷ drive 54725 7 0x0800e ∷ drive 54725 0 0x02a00 ∷ drive 54725 7 0x00000 ∷ drive 54725 0 0x00000 ∷ drive 100000 6 0x00240 ∷ drive 102400 6 0x00640 ∷ drive 103600 6 0x10741 ∷ drive 103690 6 0x10541 ∷ drive 104090 0 0x00200 ∷ drive 104180 6 0x10000 ∷ drive 104180 0 0x02a00 ∷ drive 104580 0 0x06a00 ∷ drive 104580 6 0x001c0 ∷ drive 104670 6 0x081c0 ∷ drive 104670 0 0x02a00 ∷ drive 104670 6 0x00000 ∷ drive 104670 0 0x00a00 ∷ drive 105070 0 0x04a00 ∷ drive 105070 6 0x00008 ∷ drive 105125 6 0x08008 ∷ drive 105125 0 0x00a00 ∷ drive 105125 6 0x00000 ∷ drive 105125 0 0x04a00 ∷ drive 105125 6 0x00100 ∷ drive 105180 6 0x08100 ∷ drive 105180 0 0x00a00 ∷ drive 105180 6 0x00000 ∷ drive 105180 0 0x04a00 ∷ drive 105180 6 0x00100 ∷ drive 105235 6 0x08100 ∷ drive 105235 0 0x00a00 ∷ drive 105235 6 0x00000 ∷ drive 105235 0 0x04a00 ∷ drive 105235 6 0x00100 ∷ drive 105290 6 0x08100 ∷ drive 105290 0 0x00a00 ∷ drive 105290 6 0x00000 ∷ drive 105290 0 0x04a00 ∷ drive 105290 6 0x00001 ∷ drive 105345 6 0x08001 ∷ drive 105345 0 0x00a00 ∷ drive 105345 6 0x00000 ∷ drive 105345 0 0x04a00 ∷ drive 105345 6 0x00100 ∷ drive 105400 6 0x08100 ∷ drive 105400 0 0x00a00 ∷ drive 105400 6 0x00000 ∷ drive 105400 0 0x01200 ∷ drive 106200 0 0x01300 ∷ drive 106255 0 0x05300 ∷ drive 106255 6 0x08000 ∷ drive 106345 6 0x00000 ∷ drive 106345 0 0x01300 ∷ drive 106455 0 0x05300 ∷ drive 106455 6 0x08000 ∷ drive 106545 6 0x00000 ∷ drive 106545 0 0x01300 ∷ drive 106655 0 0x05300 ∷ drive 106655 6 0x08000 ∷ drive 106745 6 0x00000 ∷ drive 106745 0 0x01300 ∷ drive 106855 0 0x05300 ∷ drive 106855 6 0x08000 ∷ drive 106945 6 0x00000 ∷ drive 106945 0 0x01300 ∷ drive 107055 0 0x05300 ∷ drive 107055 6 0x08000 ∷ drive 107145 6 0x00000 ∷ drive 107145 0 0x01300 ∷ drive 107255 0 0x05300 ∷ drive 107255 6 0x08000 ∷ drive 107345 6 0x00000 ∷ drive 107345 0 0x01300 ∷ drive 107455 0 0x05300 ∷ drive 107455 6 0x08000 ∷ drive 107545 6 0x00000 ∷ drive 107545 0 0x01300 ∷ drive 107655 0 0x05300 ∷ drive 107655 6 0x08000 ∷ drive 107745 6 0x00000 ∷ drive 107745 0 0x01300 ∷ drive 107855 0 0x05300 ∷ drive 107855 6 0x08000 ∷ drive 107945 6 0x00000 ∷ drive 107945 0 0x01300 ∷ drive 108055 0 0x05300 ∷ drive 108055 6 0x08000 ∷ drive 108145 6 0x00000 ∷ drive 108145 0 0x01300 ∷ drive 108255 0 0x05300 ∷ drive 108255 6 0x08000 ∷ drive 108345 6 0x00000 ∷ drive 108345 0 0x01300 ∷ drive 108455 0 0x05300 ∷ drive 108455 6 0x08000 ∷ drive 108545 6 0x00000 ∷ drive 108545 0 0x01300 ∷ drive 108655 0 0x05300 ∷ drive 108655 6 0x08000 ∷ drive 108745 6 0x00000 ∷ drive 108745 0 0x01300 ∷ drive 108855 0 0x05300 ∷ drive 108855 6 0x08000 ∷ drive 108945 6 0x00000 ∷ drive 108945 0 0x01300 ∷ drive 109055 0 0x05300 ∷ drive 109055 6 0x08000 ∷ drive 109145 6 0x00000 ∷ drive 109145 0 0x01300 ∷ drive 109255 0 0x05300 ∷ drive 109255 6 0x08000 ∷ drive 109345 6 0x00000 ∷ drive 109345 0 0x01300 ∷ drive 109355 0 0x01200 ∷ drive 109355 0 0x01b00 ∷ drive 109755 0 0x05b00 ∷ drive 109755 6 0x08000 ∷ drive 109755 0 0x01a00 ∷ drive 109755 6 0x00000 ∷ drive 109755 0 0x03b00 ∷ drive 110155 0 0x07b00 ∷ drive 110155 6 0x08000 ∷ drive 110155 0 0x03a00 ∷ drive 110155 6 0x00000 ∷ drive 110155 0 0x00000 ∷ []

abbrev queue_of_another_keeps_the_agreement_guard_events : List Event
queue_of_another_keeps_the_agreement_guard_events = events.Accept (command 1) ∷ events.Run (command 1) ∷ events.End (command 1) 0 ∷ events.Aborted 7 0 0 aborts.WholeQueue ∷ events.Accept (command 2) ∷ events.Run (command 2) ∷ events.End (command 2) 0 ∷ []

abbrev pub queue_of_another_keeps_the_agreement_guard_shown : Shows
queue_of_another_keeps_the_agreement_guard_shown = record { rows = reverse queue_of_another_keeps_the_agreement_guard_rows; history = reverse queue_of_another_keeps_the_agreement_guard_events; ended = true }

queue_of_another_keeps_the_agreement_guard_run : shown (run_by_due queue_of_another_keeps_the_agreement_guard 308) ≡ queue_of_another_keeps_the_agreement_guard_shown
unfolding need_of sent_of ones union_below line_of form_out form_in least run_from
queue_of_another_keeps_the_agreement_guard_run = refl

-- ---- ranges_side_by_side_guard

abbrev pub ranges_side_by_side_guard : ScenarioValue
ranges_side_by_side_guard = record {
  version = 1;
  hosts = record { dev = 7; latency = 0; most = 4; retries = 2; period = 0; offset = 0; lag = 0; offers = true } ∷ [];
  targets = record { dev = 0; latency = 0; retries = 2; disc = policies.Command; pick = picks.Last; seek = 1000000; period = 0; offset = 0; begins = false } ∷ [];
  units = record { target = 0; unit = 0; blocks = 4; size = 16; depth = 4 } ∷ [];
  fills = [];
  tapes = [];
  loads = [];
  commands = record { host = 7; target = 0; unit = 0; at = 0; tag = tags.Simple 0; cdb = (0 ∷ 0 ∷ 0 ∷ 0 ∷ 0 ∷ 0 ∷ []); payload = payloads.Nothing } ∷ record { host = 7; target = 0; unit = 0; at = 0; tag = tags.Simple 1; cdb = (10 ∷ 0 ∷ 0 ∷ 1 ∷ 1 ∷ 0 ∷ []); payload = payloads.From 32 } ∷ record { host = 7; target = 0; unit = 0; at = 0; tag = tags.Simple 2; cdb = (8 ∷ 0 ∷ 0 ∷ 0 ∷ 1 ∷ 0 ∷ []); payload = payloads.Nothing } ∷ record { host = 7; target = 0; unit = 0; at = 0; tag = tags.Simple 3; cdb = (8 ∷ 0 ∷ 0 ∷ 2 ∷ 1 ∷ 0 ∷ []); payload = payloads.Nothing } ∷ [];
  aborts = [];
  resets = [];
  faults = [];
}

abbrev pub ranges_side_by_side_guard_rows : List Row
ranges_side_by_side_guard_rows = drive 1200 7 0x00280 ∷ drive 3600 7 0x00680 ∷ drive 4800 7 0x10781 ∷ drive 4890 7 0x10581 ∷ drive 5290 0 0x00200 ∷ drive 5380 7 0x10000 ∷ drive 5380 0 0x02a00 ∷ drive 5780 0 0x06a00 ∷ drive 5780 7 0x101c0 ∷ drive 5835 7 0x181c0 ∷ drive 5835 0 0x02a00 ∷ drive 5835 7 0x10000 ∷ drive 5835 0 0x06a00 ∷ drive 5835 7 0x10020 ∷ drive 5890 7 0x18020 ∷ drive 5890 0 0x02a00 ∷ drive 5890 7 0x10000 ∷ drive 5890 0 0x06a00 ∷ drive 5890 7 0x00100 ∷ drive 5980 7 0x08100 ∷ drive 5980 0 0x02a00 ∷ drive 5980 7 0x00000 ∷ drive 5980 0 0x00a00 ∷ drive 6380 0 0x04a00 ∷ drive 6380 7 0x00100 ∷ drive 6435 7 0x08100 ∷ drive 6435 0 0x00a00 ∷ drive 6435 7 0x00000 ∷ drive 6435 0 0x04a00 ∷ drive 6435 7 0x00100 ∷ drive 6490 7 0x08100 ∷ drive 6490 0 0x00a00 ∷ drive 6490 7 0x00000 ∷ drive 6490 0 0x04a00 ∷ drive 6490 7 0x00100 ∷ drive 6545 7 0x08100 ∷ drive 6545 0 0x00a00 ∷ drive 6545 7 0x00000 ∷ drive 6545 0 0x04a00 ∷ drive 6545 7 0x00100 ∷ drive 6600 7 0x08100 ∷ drive 6600 0 0x00a00 ∷ drive 6600 7 0x00000 ∷ drive 6600 0 0x04a00 ∷ drive 6600 7 0x00100 ∷ drive 6655 7 0x08100 ∷ drive 6655 0 0x00a00 ∷ drive 6655 7 0x00000 ∷ drive 6655 0 0x04a00 ∷ drive 6655 7 0x00100 ∷ drive 6710 7 0x08100 ∷ drive 6710 0 0x00a00 ∷ drive 6710 7 0x00000 ∷ drive 6710 0 0x03a00 ∷ drive 7510 0 0x03a04 ∷ drive 7565 0 0x07a04 ∷ drive 7565 7 0x08000 ∷ drive 7565 0 0x03a00 ∷ drive 7565 7 0x00000 ∷ drive 7565 0 0x00000 ∷ drive 8765 7 0x00280 ∷ drive 11165 7 0x00680 ∷ drive 12365 7 0x10781 ∷ drive 12455 7 0x10581 ∷ drive 12855 0 0x00200 ∷ drive 12945 7 0x10000 ∷ drive 12945 0 0x02a00 ∷ drive 13345 0 0x06a00 ∷ drive 13345 7 0x101c0 ∷ drive 13400 7 0x181c0 ∷ drive 13400 0 0x02a00 ∷ drive 13400 7 0x10000 ∷ drive 13400 0 0x06a00 ∷ drive 13400 7 0x10020 ∷ drive 13455 7 0x18020 ∷ drive 13455 0 0x02a00 ∷ drive 13455 7 0x10000 ∷ drive 13455 0 0x06a00 ∷ drive 13455 7 0x00001 ∷ drive 13545 7 0x08001 ∷ drive 13545 0 0x02a00 ∷ drive 13545 7 0x00000 ∷ drive 13545 0 0x00a00 ∷ drive 13945 0 0x04a00 ∷ drive 13945 7 0x0010a ∷ drive 14000 7 0x0810a ∷ drive 14000 0 0x00a00 ∷ drive 14000 7 0x00000 ∷ drive 14000 0 0x04a00 ∷ drive 14000 7 0x00100 ∷ drive 14055 7 0x08100 ∷ drive 14055 0 0x00a00 ∷ drive 14055 7 0x00000 ∷ drive 14055 0 0x04a00 ∷ drive 14055 7 0x00100 ∷ drive 14110 7 0x08100 ∷ drive 14110 0 0x00a00 ∷ drive 14110 7 0x00000 ∷ drive 14110 0 0x04a00 ∷ drive 14110 7 0x00001 ∷ drive 14165 7 0x08001 ∷ drive 14165 0 0x00a00 ∷ drive 14165 7 0x00000 ∷ drive 14165 0 0x04a00 ∷ drive 14165 7 0x00001 ∷ drive 14220 7 0x08001 ∷ drive 14220 0 0x00a00 ∷ drive 14220 7 0x00000 ∷ drive 14220 0 0x04a00 ∷ drive 14220 7 0x00100 ∷ drive 14275 7 0x08100 ∷ drive 14275 0 0x00a00 ∷ drive 14275 7 0x00000 ∷ drive 14275 0 0x03a00 ∷ drive 15075 0 0x03a04 ∷ drive 15130 0 0x07a04 ∷ drive 15130 7 0x08000 ∷ drive 15130 0 0x03a00 ∷ drive 15130 7 0x00000 ∷ drive 15130 0 0x00000 ∷ drive 16330 7 0x00280 ∷ drive 18730 7 0x00680 ∷ drive 19930 7 0x10781 ∷ drive 20020 7 0x10581 ∷ drive 20420 0 0x00200 ∷ drive 20510 7 0x10000 ∷ drive 20510 0 0x02a00 ∷ drive 20910 0 0x06a00 ∷ drive 20910 7 0x101c0 ∷ drive 20965 7 0x181c0 ∷ drive 20965 0 0x02a00 ∷ drive 20965 7 0x10000 ∷ drive 20965 0 0x06a00 ∷ drive 20965 7 0x10020 ∷ drive 21020 7 0x18020 ∷ drive 21020 0 0x02a00 ∷ drive 21020 7 0x10000 ∷ drive 21020 0 0x06a00 ∷ drive 21020 7 0x00002 ∷ drive 21110 7 0x08002 ∷ drive 21110 0 0x02a00 ∷ drive 21110 7 0x00000 ∷ drive 21110 0 0x00a00 ∷ drive 21510 0 0x04a00 ∷ drive 21510 7 0x00008 ∷ drive 21565 7 0x08008 ∷ drive 21565 0 0x00a00 ∷ drive 21565 7 0x00000 ∷ drive 21565 0 0x04a00 ∷ drive 21565 7 0x00100 ∷ drive 21620 7 0x08100 ∷ drive 21620 0 0x00a00 ∷ drive 21620 7 0x00000 ∷ drive 21620 0 0x04a00 ∷ drive 21620 7 0x00100 ∷ drive 21675 7 0x08100 ∷ drive 21675 0 0x00a00 ∷ drive 21675 7 0x00000 ∷ drive 21675 0 0x04a00 ∷ drive 21675 7 0x00100 ∷ drive 21730 7 0x08100 ∷ drive 21730 0 0x00a00 ∷ drive 21730 7 0x00000 ∷ drive 21730 0 0x04a00 ∷ drive 21730 7 0x00001 ∷ drive 21785 7 0x08001 ∷ drive 21785 0 0x00a00 ∷ drive 21785 7 0x00000 ∷ drive 21785 0 0x04a00 ∷ drive 21785 7 0x00100 ∷ drive 21840 7 0x08100 ∷ drive 21840 0 0x00a00 ∷ drive 21840 7 0x00000 ∷ drive 21840 0 0x03a00 ∷ drive 22640 0 0x03a04 ∷ drive 22695 0 0x07a04 ∷ drive 22695 7 0x08000 ∷ drive 22695 0 0x03a00 ∷ drive 22695 7 0x00000 ∷ drive 22695 0 0x00000 ∷ drive 23895 7 0x00280 ∷ drive 26295 7 0x00680 ∷ drive 27495 7 0x10781 ∷ drive 27585 7 0x10581 ∷ drive 27985 0 0x00200 ∷ drive 28075 7 0x10000 ∷ drive 28075 0 0x02a00 ∷ drive 28475 0 0x06a00 ∷ drive 28475 7 0x101c0 ∷ drive 28530 7 0x181c0 ∷ drive 28530 0 0x02a00 ∷ drive 28530 7 0x10000 ∷ drive 28530 0 0x06a00 ∷ drive 28530 7 0x10020 ∷ drive 28585 7 0x18020 ∷ drive 28585 0 0x02a00 ∷ drive 28585 7 0x10000 ∷ drive 28585 0 0x06a00 ∷ drive 28585 7 0x00103 ∷ drive 28675 7 0x08103 ∷ drive 28675 0 0x02a00 ∷ drive 28675 7 0x00000 ∷ drive 28675 0 0x00a00 ∷ drive 29075 0 0x04a00 ∷ drive 29075 7 0x00008 ∷ drive 29130 7 0x08008 ∷ drive 29130 0 0x00a00 ∷ drive 29130 7 0x00000 ∷ drive 29130 0 0x04a00 ∷ drive 29130 7 0x00100 ∷ drive 29185 7 0x08100 ∷ drive 29185 0 0x00a00 ∷ drive 29185 7 0x00000 ∷ drive 29185 0 0x04a00 ∷ drive 29185 7 0x00100 ∷ drive 29240 7 0x08100 ∷ drive 29240 0 0x00a00 ∷ drive 29240 7 0x00000 ∷ drive 29240 0 0x04a00 ∷ drive 29240 7 0x00002 ∷ drive 29295 7 0x08002 ∷ drive 29295 0 0x00a00 ∷ drive 29295 7 0x00000 ∷ drive 29295 0 0x04a00 ∷ drive 29295 7 0x00001 ∷ drive 29350 7 0x08001 ∷ drive 29350 0 0x00a00 ∷ drive 29350 7 0x00000 ∷ drive 29350 0 0x04a00 ∷ drive 29350 7 0x00100 ∷ drive 29405 7 0x08100 ∷ drive 29405 0 0x00a00 ∷ drive 29405 7 0x00000 ∷ drive 29405 0 0x03a00 ∷ drive 30205 0 0x03a04 ∷ drive 30260 0 0x07a04 ∷ drive 30260 7 0x08000 ∷ drive 30260 0 0x03a00 ∷ drive 30260 7 0x00000 ∷ drive 30260 0 0x00000 ∷ drive 1006710 0 0x00201 ∷ drive 1009110 0 0x00601 ∷ drive 1010310 0 0x01781 ∷ drive 1010400 0 0x01581 ∷ drive 1010800 7 0x00200 ∷ drive 1010800 0 0x01781 ∷ drive 1010890 0 0x03a80 ∷ drive 1010890 7 0x00000 ∷ drive 1011290 0 0x07a80 ∷ drive 1011290 7 0x08000 ∷ drive 1011290 0 0x03a20 ∷ drive 1011290 7 0x00000 ∷ drive 1011345 0 0x07a20 ∷ drive 1011345 7 0x08000 ∷ drive 1011345 0 0x03b00 ∷ drive 1011345 7 0x00000 ∷ drive 1011400 0 0x07b00 ∷ drive 1011400 7 0x08000 ∷ drive 1011400 0 0x03a00 ∷ drive 1011400 7 0x00000 ∷ drive 1011400 0 0x01b00 ∷ drive 1011800 0 0x05b00 ∷ drive 1011800 7 0x08000 ∷ drive 1011800 0 0x01a00 ∷ drive 1011800 7 0x00000 ∷ drive 1011800 0 0x03b00 ∷ drive 1012200 0 0x07b00 ∷ drive 1012200 7 0x08000 ∷ drive 1012200 0 0x03a00 ∷ drive 1012200 7 0x00000 ∷ drive 1012200 0 0x00000 ∷ drive 2012200 0 0x00201 ∷ drive 2014600 0 0x00601 ∷ drive 2015800 0 0x01781 ∷ drive 2015890 0 0x01581 ∷ drive 2016290 7 0x00200 ∷ drive 2016290 0 0x01781 ∷ drive 2016380 0 0x03a80 ∷ drive 2016380 7 0x00000 ∷ drive 2016780 0 0x07a80 ∷ drive 2016780 7 0x08000 ∷ drive 2016780 0 0x03a20 ∷ drive 2016780 7 0x00000 ∷ drive 2016835 0 0x07a20 ∷ drive 2016835 7 0x08000 ∷ drive 2016835 0 0x03b03 ∷ drive 2016835 7 0x00000 ∷ drive 2016890 0 0x07b03 ∷ drive 2016890 7 0x08000 ∷ drive 2016890 0 0x03a00 ∷ drive 2016890 7 0x00000 ∷ drive 2016890 0 0x01300 ∷ drive 2017290 0 0x05300 ∷ drive 2017290 7 0x08000 ∷ drive 2017290 0 0x01300 ∷ drive 2017290 7 0x00000 ∷ drive 2017345 0 0x05300 ∷ drive 2017345 7 0x08000 ∷ drive 2017345 0 0x01300 ∷ drive 2017345 7 0x00000 ∷ drive 2017400 0 0x05300 ∷ drive 2017400 7 0x08000 ∷ drive 2017400 0 0x01300 ∷ drive 2017400 7 0x00000 ∷ drive 2017455 0 0x05300 ∷ drive 2017455 7 0x08000 ∷ drive 2017455 0 0x01300 ∷ drive 2017455 7 0x00000 ∷ drive 2017510 0 0x05300 ∷ drive 2017510 7 0x08000 ∷ drive 2017510 0 0x01300 ∷ drive 2017510 7 0x00000 ∷ drive 2017565 0 0x05300 ∷ drive 2017565 7 0x08000 ∷ drive 2017565 0 0x01300 ∷ drive 2017565 7 0x00000 ∷ drive 2017620 0 0x05300 ∷ drive 2017620 7 0x08000 ∷ drive 2017620 0 0x01300 ∷ drive 2017620 7 0x00000 ∷ drive 2017675 0 0x05300 ∷ drive 2017675 7 0x08000 ∷ drive 2017675 0 0x01300 ∷ drive 2017675 7 0x00000 ∷ drive 2017730 0 0x05300 ∷ drive 2017730 7 0x08000 ∷ drive 2017730 0 0x01300 ∷ drive 2017730 7 0x00000 ∷ drive 2017785 0 0x05300 ∷ drive 2017785 7 0x08000 ∷ drive 2017785 0 0x01300 ∷ drive 2017785 7 0x00000 ∷ drive 2017840 0 0x05300 ∷ drive 2017840 7 0x08000 ∷ drive 2017840 0 0x01300 ∷ drive 2017840 7 0x00000 ∷ drive 2017895 0 0x05300 ∷ drive 2017895 7 0x08000 ∷ drive 2017895 0 0x01300 ∷ drive 2017895 7 0x00000 ∷ drive 2017950 0 0x05300 ∷ drive 2017950 7 0x08000 ∷ drive 2017950 0 0x01300 ∷ drive 2017950 7 0x00000 ∷ drive 2018005 0 0x05300 ∷ drive 2018005 7 0x08000 ∷ drive 2018005 0 0x01300 ∷ drive 2018005 7 0x00000 ∷ drive 2018060 0 0x05300 ∷ drive 2018060 7 0x08000 ∷ drive 2018060 0 0x01300 ∷ drive 2018060 7 0x00000 ∷ drive 2018115 0 0x05300 ∷ drive 2018115 7 0x08000 ∷ drive 2018115 0 0x01200 ∷ drive 2018115 7 0x00000 ∷ drive 2018115 0 0x01b00 ∷ drive 2018515 0 0x05b00 ∷ drive 2018515 7 0x08000 ∷ drive 2018515 0 0x01a00 ∷ drive 2018515 7 0x00000 ∷ drive 2018515 0 0x03b00 ∷ drive 2018915 0 0x07b00 ∷ drive 2018915 7 0x08000 ∷ drive 2018915 0 0x03a00 ∷ drive 2018915 7 0x00000 ∷ drive 2018915 0 0x00000 ∷ drive 3018915 0 0x00201 ∷ drive 3021315 0 0x00601 ∷ drive 3022515 0 0x01781 ∷ drive 3022605 0 0x01581 ∷ drive 3023005 7 0x00200 ∷ drive 3023005 0 0x01781 ∷ drive 3023095 0 0x03a80 ∷ drive 3023095 7 0x00000 ∷ drive 3023495 0 0x07a80 ∷ drive 3023495 7 0x08000 ∷ drive 3023495 0 0x03a20 ∷ drive 3023495 7 0x00000 ∷ drive 3023550 0 0x07a20 ∷ drive 3023550 7 0x08000 ∷ drive 3023550 0 0x03a02 ∷ drive 3023550 7 0x00000 ∷ drive 3023605 0 0x07a02 ∷ drive 3023605 7 0x08000 ∷ drive 3023605 0 0x03a00 ∷ drive 3023605 7 0x00000 ∷ drive 3023605 0 0x01300 ∷ drive 3024005 0 0x05300 ∷ drive 3024005 7 0x08000 ∷ drive 3024005 0 0x01300 ∷ drive 3024005 7 0x00000 ∷ drive 3024060 0 0x05300 ∷ drive 3024060 7 0x08000 ∷ drive 3024060 0 0x01300 ∷ drive 3024060 7 0x00000 ∷ drive 3024115 0 0x05300 ∷ drive 3024115 7 0x08000 ∷ drive 3024115 0 0x01300 ∷ drive 3024115 7 0x00000 ∷ drive 3024170 0 0x05300 ∷ drive 3024170 7 0x08000 ∷ drive 3024170 0 0x01300 ∷ drive 3024170 7 0x00000 ∷ drive 3024225 0 0x05300 ∷ drive 3024225 7 0x08000 ∷ drive 3024225 0 0x01300 ∷ drive 3024225 7 0x00000 ∷ drive 3024280 0 0x05300 ∷ drive 3024280 7 0x08000 ∷ drive 3024280 0 0x01300 ∷ drive 3024280 7 0x00000 ∷ drive 3024335 0 0x05300 ∷ drive 3024335 7 0x08000 ∷ drive 3024335 0 0x01300 ∷ drive 3024335 7 0x00000 ∷ drive 3024390 0 0x05300 ∷ drive 3024390 7 0x08000 ∷ drive 3024390 0 0x01300 ∷ drive 3024390 7 0x00000 ∷ drive 3024445 0 0x05300 ∷ drive 3024445 7 0x08000 ∷ drive 3024445 0 0x01300 ∷ drive 3024445 7 0x00000 ∷ drive 3024500 0 0x05300 ∷ drive 3024500 7 0x08000 ∷ drive 3024500 0 0x01300 ∷ drive 3024500 7 0x00000 ∷ drive 3024555 0 0x05300 ∷ drive 3024555 7 0x08000 ∷ drive 3024555 0 0x01300 ∷ drive 3024555 7 0x00000 ∷ drive 3024610 0 0x05300 ∷ drive 3024610 7 0x08000 ∷ drive 3024610 0 0x01300 ∷ drive 3024610 7 0x00000 ∷ drive 3024665 0 0x05300 ∷ drive 3024665 7 0x08000 ∷ drive 3024665 0 0x01300 ∷ drive 3024665 7 0x00000 ∷ drive 3024720 0 0x05300 ∷ drive 3024720 7 0x08000 ∷ drive 3024720 0 0x01300 ∷ drive 3024720 7 0x00000 ∷ drive 3024775 0 0x05300 ∷ drive 3024775 7 0x08000 ∷ drive 3024775 0 0x01300 ∷ drive 3024775 7 0x00000 ∷ drive 3024830 0 0x05300 ∷ drive 3024830 7 0x08000 ∷ drive 3024830 0 0x01200 ∷ drive 3024830 7 0x00000 ∷ drive 3024830 0 0x01b00 ∷ drive 3025230 0 0x05b00 ∷ drive 3025230 7 0x08000 ∷ drive 3025230 0 0x01a00 ∷ drive 3025230 7 0x00000 ∷ drive 3025230 0 0x03b00 ∷ drive 3025630 0 0x07b00 ∷ drive 3025630 7 0x08000 ∷ drive 3025630 0 0x03a00 ∷ drive 3025630 7 0x00000 ∷ drive 3025630 0 0x00000 ∷ drive 4025630 0 0x00201 ∷ drive 4028030 0 0x00601 ∷ drive 4029230 0 0x01781 ∷ drive 4029320 0 0x01581 ∷ drive 4029720 7 0x00200 ∷ drive 4029720 0 0x01781 ∷ drive 4029810 0 0x03a80 ∷ drive 4029810 7 0x00000 ∷ drive 4030210 0 0x07a80 ∷ drive 4030210 7 0x08000 ∷ drive 4030210 0 0x03a20 ∷ drive 4030210 7 0x00000 ∷ drive 4030265 0 0x07a20 ∷ drive 4030265 7 0x08000 ∷ drive 4030265 0 0x03a01 ∷ drive 4030265 7 0x00000 ∷ drive 4030320 0 0x07a01 ∷ drive 4030320 7 0x08000 ∷ drive 4030320 0 0x03a00 ∷ drive 4030320 7 0x00000 ∷ drive 4030320 0 0x00200 ∷ drive 4030720 0 0x04200 ∷ drive 4030720 7 0x00020 ∷ drive 4030775 7 0x08020 ∷ drive 4030775 0 0x00200 ∷ drive 4030775 7 0x00000 ∷ drive 4030775 0 0x04200 ∷ drive 4030775 7 0x00121 ∷ drive 4030830 7 0x08121 ∷ drive 4030830 0 0x00200 ∷ drive 4030830 7 0x00000 ∷ drive 4030830 0 0x04200 ∷ drive 4030830 7 0x00122 ∷ drive 4030885 7 0x08122 ∷ drive 4030885 0 0x00200 ∷ drive 4030885 7 0x00000 ∷ drive 4030885 0 0x04200 ∷ drive 4030885 7 0x00023 ∷ drive 4030940 7 0x08023 ∷ drive 4030940 0 0x00200 ∷ drive 4030940 7 0x00000 ∷ drive 4030940 0 0x04200 ∷ drive 4030940 7 0x00124 ∷ drive 4030995 7 0x08124 ∷ drive 4030995 0 0x00200 ∷ drive 4030995 7 0x00000 ∷ drive 4030995 0 0x04200 ∷ drive 4030995 7 0x00025 ∷ drive 4031050 7 0x08025 ∷ drive 4031050 0 0x00200 ∷ drive 4031050 7 0x00000 ∷ drive 4031050 0 0x04200 ∷ drive 4031050 7 0x00026 ∷ drive 4031105 7 0x08026 ∷ drive 4031105 0 0x00200 ∷ drive 4031105 7 0x00000 ∷ drive 4031105 0 0x04200 ∷ drive 4031105 7 0x00127 ∷ drive 4031160 7 0x08127 ∷ drive 4031160 0 0x00200 ∷ drive 4031160 7 0x00000 ∷ drive 4031160 0 0x04200 ∷ drive 4031160 7 0x00128 ∷ drive 4031215 7 0x08128 ∷ drive 4031215 0 0x00200 ∷ drive 4031215 7 0x00000 ∷ drive 4031215 0 0x04200 ∷ drive 4031215 7 0x00029 ∷ drive 4031270 7 0x08029 ∷ drive 4031270 0 0x00200 ∷ drive 4031270 7 0x00000 ∷ drive 4031270 0 0x04200 ∷ drive 4031270 7 0x0002a ∷ drive 4031325 7 0x0802a ∷ drive 4031325 0 0x00200 ∷ drive 4031325 7 0x00000 ∷ drive 4031325 0 0x04200 ∷ drive 4031325 7 0x0012b ∷ drive 4031380 7 0x0812b ∷ drive 4031380 0 0x00200 ∷ drive 4031380 7 0x00000 ∷ drive 4031380 0 0x04200 ∷ drive 4031380 7 0x0002c ∷ drive 4031435 7 0x0802c ∷ drive 4031435 0 0x00200 ∷ drive 4031435 7 0x00000 ∷ drive 4031435 0 0x04200 ∷ drive 4031435 7 0x0012d ∷ drive 4031490 7 0x0812d ∷ drive 4031490 0 0x00200 ∷ drive 4031490 7 0x00000 ∷ drive 4031490 0 0x04200 ∷ drive 4031490 7 0x0012e ∷ drive 4031545 7 0x0812e ∷ drive 4031545 0 0x00200 ∷ drive 4031545 7 0x00000 ∷ drive 4031545 0 0x04200 ∷ drive 4031545 7 0x0002f ∷ drive 4031600 7 0x0802f ∷ drive 4031600 0 0x00200 ∷ drive 4031600 7 0x00000 ∷ drive 4031600 0 0x01a00 ∷ drive 4032400 0 0x01b00 ∷ drive 4032455 0 0x05b00 ∷ drive 4032455 7 0x08000 ∷ drive 4032455 0 0x01a00 ∷ drive 4032455 7 0x00000 ∷ drive 4032455 0 0x03b00 ∷ drive 4032855 0 0x07b00 ∷ drive 4032855 7 0x08000 ∷ drive 4032855 0 0x03a00 ∷ drive 4032855 7 0x00000 ∷ drive 4032855 0 0x00000 ∷ []

abbrev ranges_side_by_side_guard_events : List Event
ranges_side_by_side_guard_events = events.Accept (command 1) ∷ events.Accept (command 2) ∷ events.Accept (command 3) ∷ events.Accept (command 4) ∷ events.Run (command 1) ∷ events.End (command 1) 0 ∷ events.Run (command 4) ∷ events.End (command 4) 0 ∷ events.Run (command 3) ∷ events.End (command 3) 0 ∷ events.Run (command 2) ∷ events.End (command 2) 0 ∷ []

abbrev pub ranges_side_by_side_guard_shown : Shows
ranges_side_by_side_guard_shown = record { rows = reverse ranges_side_by_side_guard_rows; history = reverse ranges_side_by_side_guard_events; ended = true }

ranges_side_by_side_guard_run : shown (run_by_due ranges_side_by_side_guard 577) ≡ ranges_side_by_side_guard_shown
unfolding need_of sent_of ones union_below line_of form_out form_in least run_from
ranges_side_by_side_guard_run = refl

-- ---- read_and_write_conflict_guard

abbrev pub read_and_write_conflict_guard : ScenarioValue
read_and_write_conflict_guard = record {
  version = 1;
  hosts = record { dev = 7; latency = 0; most = 4; retries = 2; period = 0; offset = 0; lag = 0; offers = true } ∷ [];
  targets = record { dev = 0; latency = 0; retries = 2; disc = policies.Command; pick = picks.Last; seek = 1000000; period = 0; offset = 0; begins = false } ∷ [];
  units = record { target = 0; unit = 0; blocks = 4; size = 16; depth = 4 } ∷ [];
  fills = [];
  tapes = [];
  loads = [];
  commands = record { host = 7; target = 0; unit = 0; at = 0; tag = tags.Simple 0; cdb = (0 ∷ 0 ∷ 0 ∷ 0 ∷ 0 ∷ 0 ∷ []); payload = payloads.Nothing } ∷ record { host = 7; target = 0; unit = 0; at = 0; tag = tags.Simple 1; cdb = (8 ∷ 0 ∷ 0 ∷ 0 ∷ 2 ∷ 0 ∷ []); payload = payloads.Nothing } ∷ record { host = 7; target = 0; unit = 0; at = 0; tag = tags.Simple 2; cdb = (10 ∷ 0 ∷ 0 ∷ 1 ∷ 1 ∷ 0 ∷ []); payload = payloads.From 32 } ∷ record { host = 7; target = 0; unit = 0; at = 0; tag = tags.Simple 3; cdb = (8 ∷ 0 ∷ 0 ∷ 1 ∷ 1 ∷ 0 ∷ []); payload = payloads.Nothing } ∷ [];
  aborts = [];
  resets = [];
  faults = [];
}

abbrev pub read_and_write_conflict_guard_rows : List Row
read_and_write_conflict_guard_rows = drive 1200 7 0x00280 ∷ drive 3600 7 0x00680 ∷ drive 4800 7 0x10781 ∷ drive 4890 7 0x10581 ∷ drive 5290 0 0x00200 ∷ drive 5380 7 0x10000 ∷ drive 5380 0 0x02a00 ∷ drive 5780 0 0x06a00 ∷ drive 5780 7 0x101c0 ∷ drive 5835 7 0x181c0 ∷ drive 5835 0 0x02a00 ∷ drive 5835 7 0x10000 ∷ drive 5835 0 0x06a00 ∷ drive 5835 7 0x10020 ∷ drive 5890 7 0x18020 ∷ drive 5890 0 0x02a00 ∷ drive 5890 7 0x10000 ∷ drive 5890 0 0x06a00 ∷ drive 5890 7 0x00100 ∷ drive 5980 7 0x08100 ∷ drive 5980 0 0x02a00 ∷ drive 5980 7 0x00000 ∷ drive 5980 0 0x00a00 ∷ drive 6380 0 0x04a00 ∷ drive 6380 7 0x00100 ∷ drive 6435 7 0x08100 ∷ drive 6435 0 0x00a00 ∷ drive 6435 7 0x00000 ∷ drive 6435 0 0x04a00 ∷ drive 6435 7 0x00100 ∷ drive 6490 7 0x08100 ∷ drive 6490 0 0x00a00 ∷ drive 6490 7 0x00000 ∷ drive 6490 0 0x04a00 ∷ drive 6490 7 0x00100 ∷ drive 6545 7 0x08100 ∷ drive 6545 0 0x00a00 ∷ drive 6545 7 0x00000 ∷ drive 6545 0 0x04a00 ∷ drive 6545 7 0x00100 ∷ drive 6600 7 0x08100 ∷ drive 6600 0 0x00a00 ∷ drive 6600 7 0x00000 ∷ drive 6600 0 0x04a00 ∷ drive 6600 7 0x00100 ∷ drive 6655 7 0x08100 ∷ drive 6655 0 0x00a00 ∷ drive 6655 7 0x00000 ∷ drive 6655 0 0x04a00 ∷ drive 6655 7 0x00100 ∷ drive 6710 7 0x08100 ∷ drive 6710 0 0x00a00 ∷ drive 6710 7 0x00000 ∷ drive 6710 0 0x03a00 ∷ drive 7510 0 0x03a04 ∷ drive 7565 0 0x07a04 ∷ drive 7565 7 0x08000 ∷ drive 7565 0 0x03a00 ∷ drive 7565 7 0x00000 ∷ drive 7565 0 0x00000 ∷ drive 8765 7 0x00280 ∷ drive 11165 7 0x00680 ∷ drive 12365 7 0x10781 ∷ drive 12455 7 0x10581 ∷ drive 12855 0 0x00200 ∷ drive 12945 7 0x10000 ∷ drive 12945 0 0x02a00 ∷ drive 13345 0 0x06a00 ∷ drive 13345 7 0x101c0 ∷ drive 13400 7 0x181c0 ∷ drive 13400 0 0x02a00 ∷ drive 13400 7 0x10000 ∷ drive 13400 0 0x06a00 ∷ drive 13400 7 0x10020 ∷ drive 13455 7 0x18020 ∷ drive 13455 0 0x02a00 ∷ drive 13455 7 0x10000 ∷ drive 13455 0 0x06a00 ∷ drive 13455 7 0x00001 ∷ drive 13545 7 0x08001 ∷ drive 13545 0 0x02a00 ∷ drive 13545 7 0x00000 ∷ drive 13545 0 0x00a00 ∷ drive 13945 0 0x04a00 ∷ drive 13945 7 0x00008 ∷ drive 14000 7 0x08008 ∷ drive 14000 0 0x00a00 ∷ drive 14000 7 0x00000 ∷ drive 14000 0 0x04a00 ∷ drive 14000 7 0x00100 ∷ drive 14055 7 0x08100 ∷ drive 14055 0 0x00a00 ∷ drive 14055 7 0x00000 ∷ drive 14055 0 0x04a00 ∷ drive 14055 7 0x00100 ∷ drive 14110 7 0x08100 ∷ drive 14110 0 0x00a00 ∷ drive 14110 7 0x00000 ∷ drive 14110 0 0x04a00 ∷ drive 14110 7 0x00100 ∷ drive 14165 7 0x08100 ∷ drive 14165 0 0x00a00 ∷ drive 14165 7 0x00000 ∷ drive 14165 0 0x04a00 ∷ drive 14165 7 0x00002 ∷ drive 14220 7 0x08002 ∷ drive 14220 0 0x00a00 ∷ drive 14220 7 0x00000 ∷ drive 14220 0 0x04a00 ∷ drive 14220 7 0x00100 ∷ drive 14275 7 0x08100 ∷ drive 14275 0 0x00a00 ∷ drive 14275 7 0x00000 ∷ drive 14275 0 0x03a00 ∷ drive 15075 0 0x03a04 ∷ drive 15130 0 0x07a04 ∷ drive 15130 7 0x08000 ∷ drive 15130 0 0x03a00 ∷ drive 15130 7 0x00000 ∷ drive 15130 0 0x00000 ∷ drive 16330 7 0x00280 ∷ drive 18730 7 0x00680 ∷ drive 19930 7 0x10781 ∷ drive 20020 7 0x10581 ∷ drive 20420 0 0x00200 ∷ drive 20510 7 0x10000 ∷ drive 20510 0 0x02a00 ∷ drive 20910 0 0x06a00 ∷ drive 20910 7 0x101c0 ∷ drive 20965 7 0x181c0 ∷ drive 20965 0 0x02a00 ∷ drive 20965 7 0x10000 ∷ drive 20965 0 0x06a00 ∷ drive 20965 7 0x10020 ∷ drive 21020 7 0x18020 ∷ drive 21020 0 0x02a00 ∷ drive 21020 7 0x10000 ∷ drive 21020 0 0x06a00 ∷ drive 21020 7 0x00002 ∷ drive 21110 7 0x08002 ∷ drive 21110 0 0x02a00 ∷ drive 21110 7 0x00000 ∷ drive 21110 0 0x00a00 ∷ drive 21510 0 0x04a00 ∷ drive 21510 7 0x0010a ∷ drive 21565 7 0x0810a ∷ drive 21565 0 0x00a00 ∷ drive 21565 7 0x00000 ∷ drive 21565 0 0x04a00 ∷ drive 21565 7 0x00100 ∷ drive 21620 7 0x08100 ∷ drive 21620 0 0x00a00 ∷ drive 21620 7 0x00000 ∷ drive 21620 0 0x04a00 ∷ drive 21620 7 0x00100 ∷ drive 21675 7 0x08100 ∷ drive 21675 0 0x00a00 ∷ drive 21675 7 0x00000 ∷ drive 21675 0 0x04a00 ∷ drive 21675 7 0x00001 ∷ drive 21730 7 0x08001 ∷ drive 21730 0 0x00a00 ∷ drive 21730 7 0x00000 ∷ drive 21730 0 0x04a00 ∷ drive 21730 7 0x00001 ∷ drive 21785 7 0x08001 ∷ drive 21785 0 0x00a00 ∷ drive 21785 7 0x00000 ∷ drive 21785 0 0x04a00 ∷ drive 21785 7 0x00100 ∷ drive 21840 7 0x08100 ∷ drive 21840 0 0x00a00 ∷ drive 21840 7 0x00000 ∷ drive 21840 0 0x03a00 ∷ drive 22640 0 0x03a04 ∷ drive 22695 0 0x07a04 ∷ drive 22695 7 0x08000 ∷ drive 22695 0 0x03a00 ∷ drive 22695 7 0x00000 ∷ drive 22695 0 0x00000 ∷ drive 23895 7 0x00280 ∷ drive 26295 7 0x00680 ∷ drive 27495 7 0x10781 ∷ drive 27585 7 0x10581 ∷ drive 27985 0 0x00200 ∷ drive 28075 7 0x10000 ∷ drive 28075 0 0x02a00 ∷ drive 28475 0 0x06a00 ∷ drive 28475 7 0x101c0 ∷ drive 28530 7 0x181c0 ∷ drive 28530 0 0x02a00 ∷ drive 28530 7 0x10000 ∷ drive 28530 0 0x06a00 ∷ drive 28530 7 0x10020 ∷ drive 28585 7 0x18020 ∷ drive 28585 0 0x02a00 ∷ drive 28585 7 0x10000 ∷ drive 28585 0 0x06a00 ∷ drive 28585 7 0x00103 ∷ drive 28675 7 0x08103 ∷ drive 28675 0 0x02a00 ∷ drive 28675 7 0x00000 ∷ drive 28675 0 0x00a00 ∷ drive 29075 0 0x04a00 ∷ drive 29075 7 0x00008 ∷ drive 29130 7 0x08008 ∷ drive 29130 0 0x00a00 ∷ drive 29130 7 0x00000 ∷ drive 29130 0 0x04a00 ∷ drive 29130 7 0x00100 ∷ drive 29185 7 0x08100 ∷ drive 29185 0 0x00a00 ∷ drive 29185 7 0x00000 ∷ drive 29185 0 0x04a00 ∷ drive 29185 7 0x00100 ∷ drive 29240 7 0x08100 ∷ drive 29240 0 0x00a00 ∷ drive 29240 7 0x00000 ∷ drive 29240 0 0x04a00 ∷ drive 29240 7 0x00001 ∷ drive 29295 7 0x08001 ∷ drive 29295 0 0x00a00 ∷ drive 29295 7 0x00000 ∷ drive 29295 0 0x04a00 ∷ drive 29295 7 0x00001 ∷ drive 29350 7 0x08001 ∷ drive 29350 0 0x00a00 ∷ drive 29350 7 0x00000 ∷ drive 29350 0 0x04a00 ∷ drive 29350 7 0x00100 ∷ drive 29405 7 0x08100 ∷ drive 29405 0 0x00a00 ∷ drive 29405 7 0x00000 ∷ drive 29405 0 0x03a00 ∷ drive 30205 0 0x03a04 ∷ drive 30260 0 0x07a04 ∷ drive 30260 7 0x08000 ∷ drive 30260 0 0x03a00 ∷ drive 30260 7 0x00000 ∷ drive 30260 0 0x00000 ∷ drive 1006710 0 0x00201 ∷ drive 1009110 0 0x00601 ∷ drive 1010310 0 0x01781 ∷ drive 1010400 0 0x01581 ∷ drive 1010800 7 0x00200 ∷ drive 1010800 0 0x01781 ∷ drive 1010890 0 0x03a80 ∷ drive 1010890 7 0x00000 ∷ drive 1011290 0 0x07a80 ∷ drive 1011290 7 0x08000 ∷ drive 1011290 0 0x03a20 ∷ drive 1011290 7 0x00000 ∷ drive 1011345 0 0x07a20 ∷ drive 1011345 7 0x08000 ∷ drive 1011345 0 0x03b00 ∷ drive 1011345 7 0x00000 ∷ drive 1011400 0 0x07b00 ∷ drive 1011400 7 0x08000 ∷ drive 1011400 0 0x03a00 ∷ drive 1011400 7 0x00000 ∷ drive 1011400 0 0x01b00 ∷ drive 1011800 0 0x05b00 ∷ drive 1011800 7 0x08000 ∷ drive 1011800 0 0x01a00 ∷ drive 1011800 7 0x00000 ∷ drive 1011800 0 0x03b00 ∷ drive 1012200 0 0x07b00 ∷ drive 1012200 7 0x08000 ∷ drive 1012200 0 0x03a00 ∷ drive 1012200 7 0x00000 ∷ drive 1012200 0 0x00000 ∷ drive 2012200 0 0x00201 ∷ drive 2014600 0 0x00601 ∷ drive 2015800 0 0x01781 ∷ drive 2015890 0 0x01581 ∷ drive 2016290 7 0x00200 ∷ drive 2016290 0 0x01781 ∷ drive 2016380 0 0x03a80 ∷ drive 2016380 7 0x00000 ∷ drive 2016780 0 0x07a80 ∷ drive 2016780 7 0x08000 ∷ drive 2016780 0 0x03a20 ∷ drive 2016780 7 0x00000 ∷ drive 2016835 0 0x07a20 ∷ drive 2016835 7 0x08000 ∷ drive 2016835 0 0x03a01 ∷ drive 2016835 7 0x00000 ∷ drive 2016890 0 0x07a01 ∷ drive 2016890 7 0x08000 ∷ drive 2016890 0 0x03a00 ∷ drive 2016890 7 0x00000 ∷ drive 2016890 0 0x01300 ∷ drive 2017290 0 0x05300 ∷ drive 2017290 7 0x08000 ∷ drive 2017290 0 0x01300 ∷ drive 2017290 7 0x00000 ∷ drive 2017345 0 0x05300 ∷ drive 2017345 7 0x08000 ∷ drive 2017345 0 0x01300 ∷ drive 2017345 7 0x00000 ∷ drive 2017400 0 0x05300 ∷ drive 2017400 7 0x08000 ∷ drive 2017400 0 0x01300 ∷ drive 2017400 7 0x00000 ∷ drive 2017455 0 0x05300 ∷ drive 2017455 7 0x08000 ∷ drive 2017455 0 0x01300 ∷ drive 2017455 7 0x00000 ∷ drive 2017510 0 0x05300 ∷ drive 2017510 7 0x08000 ∷ drive 2017510 0 0x01300 ∷ drive 2017510 7 0x00000 ∷ drive 2017565 0 0x05300 ∷ drive 2017565 7 0x08000 ∷ drive 2017565 0 0x01300 ∷ drive 2017565 7 0x00000 ∷ drive 2017620 0 0x05300 ∷ drive 2017620 7 0x08000 ∷ drive 2017620 0 0x01300 ∷ drive 2017620 7 0x00000 ∷ drive 2017675 0 0x05300 ∷ drive 2017675 7 0x08000 ∷ drive 2017675 0 0x01300 ∷ drive 2017675 7 0x00000 ∷ drive 2017730 0 0x05300 ∷ drive 2017730 7 0x08000 ∷ drive 2017730 0 0x01300 ∷ drive 2017730 7 0x00000 ∷ drive 2017785 0 0x05300 ∷ drive 2017785 7 0x08000 ∷ drive 2017785 0 0x01300 ∷ drive 2017785 7 0x00000 ∷ drive 2017840 0 0x05300 ∷ drive 2017840 7 0x08000 ∷ drive 2017840 0 0x01300 ∷ drive 2017840 7 0x00000 ∷ drive 2017895 0 0x05300 ∷ drive 2017895 7 0x08000 ∷ drive 2017895 0 0x01300 ∷ drive 2017895 7 0x00000 ∷ drive 2017950 0 0x05300 ∷ drive 2017950 7 0x08000 ∷ drive 2017950 0 0x01300 ∷ drive 2017950 7 0x00000 ∷ drive 2018005 0 0x05300 ∷ drive 2018005 7 0x08000 ∷ drive 2018005 0 0x01300 ∷ drive 2018005 7 0x00000 ∷ drive 2018060 0 0x05300 ∷ drive 2018060 7 0x08000 ∷ drive 2018060 0 0x01300 ∷ drive 2018060 7 0x00000 ∷ drive 2018115 0 0x05300 ∷ drive 2018115 7 0x08000 ∷ drive 2018115 0 0x01300 ∷ drive 2018115 7 0x00000 ∷ drive 2018170 0 0x05300 ∷ drive 2018170 7 0x08000 ∷ drive 2018170 0 0x01300 ∷ drive 2018170 7 0x00000 ∷ drive 2018225 0 0x05300 ∷ drive 2018225 7 0x08000 ∷ drive 2018225 0 0x01300 ∷ drive 2018225 7 0x00000 ∷ drive 2018280 0 0x05300 ∷ drive 2018280 7 0x08000 ∷ drive 2018280 0 0x01300 ∷ drive 2018280 7 0x00000 ∷ drive 2018335 0 0x05300 ∷ drive 2018335 7 0x08000 ∷ drive 2018335 0 0x01300 ∷ drive 2018335 7 0x00000 ∷ drive 2018390 0 0x05300 ∷ drive 2018390 7 0x08000 ∷ drive 2018390 0 0x01300 ∷ drive 2018390 7 0x00000 ∷ drive 2018445 0 0x05300 ∷ drive 2018445 7 0x08000 ∷ drive 2018445 0 0x01300 ∷ drive 2018445 7 0x00000 ∷ drive 2018500 0 0x05300 ∷ drive 2018500 7 0x08000 ∷ drive 2018500 0 0x01300 ∷ drive 2018500 7 0x00000 ∷ drive 2018555 0 0x05300 ∷ drive 2018555 7 0x08000 ∷ drive 2018555 0 0x01300 ∷ drive 2018555 7 0x00000 ∷ drive 2018610 0 0x05300 ∷ drive 2018610 7 0x08000 ∷ drive 2018610 0 0x01300 ∷ drive 2018610 7 0x00000 ∷ drive 2018665 0 0x05300 ∷ drive 2018665 7 0x08000 ∷ drive 2018665 0 0x01300 ∷ drive 2018665 7 0x00000 ∷ drive 2018720 0 0x05300 ∷ drive 2018720 7 0x08000 ∷ drive 2018720 0 0x01300 ∷ drive 2018720 7 0x00000 ∷ drive 2018775 0 0x05300 ∷ drive 2018775 7 0x08000 ∷ drive 2018775 0 0x01300 ∷ drive 2018775 7 0x00000 ∷ drive 2018830 0 0x05300 ∷ drive 2018830 7 0x08000 ∷ drive 2018830 0 0x01300 ∷ drive 2018830 7 0x00000 ∷ drive 2018885 0 0x05300 ∷ drive 2018885 7 0x08000 ∷ drive 2018885 0 0x01300 ∷ drive 2018885 7 0x00000 ∷ drive 2018940 0 0x05300 ∷ drive 2018940 7 0x08000 ∷ drive 2018940 0 0x01300 ∷ drive 2018940 7 0x00000 ∷ drive 2018995 0 0x05300 ∷ drive 2018995 7 0x08000 ∷ drive 2018995 0 0x01200 ∷ drive 2018995 7 0x00000 ∷ drive 2018995 0 0x01b00 ∷ drive 2019395 0 0x05b00 ∷ drive 2019395 7 0x08000 ∷ drive 2019395 0 0x01a00 ∷ drive 2019395 7 0x00000 ∷ drive 2019395 0 0x03b00 ∷ drive 2019795 0 0x07b00 ∷ drive 2019795 7 0x08000 ∷ drive 2019795 0 0x03a00 ∷ drive 2019795 7 0x00000 ∷ drive 2019795 0 0x00000 ∷ drive 3019795 0 0x00201 ∷ drive 3022195 0 0x00601 ∷ drive 3023395 0 0x01781 ∷ drive 3023485 0 0x01581 ∷ drive 3023885 7 0x00200 ∷ drive 3023885 0 0x01781 ∷ drive 3023975 0 0x03a80 ∷ drive 3023975 7 0x00000 ∷ drive 3024375 0 0x07a80 ∷ drive 3024375 7 0x08000 ∷ drive 3024375 0 0x03a20 ∷ drive 3024375 7 0x00000 ∷ drive 3024430 0 0x07a20 ∷ drive 3024430 7 0x08000 ∷ drive 3024430 0 0x03a02 ∷ drive 3024430 7 0x00000 ∷ drive 3024485 0 0x07a02 ∷ drive 3024485 7 0x08000 ∷ drive 3024485 0 0x03a00 ∷ drive 3024485 7 0x00000 ∷ drive 3024485 0 0x00200 ∷ drive 3024885 0 0x04200 ∷ drive 3024885 7 0x00020 ∷ drive 3024940 7 0x08020 ∷ drive 3024940 0 0x00200 ∷ drive 3024940 7 0x00000 ∷ drive 3024940 0 0x04200 ∷ drive 3024940 7 0x00121 ∷ drive 3024995 7 0x08121 ∷ drive 3024995 0 0x00200 ∷ drive 3024995 7 0x00000 ∷ drive 3024995 0 0x04200 ∷ drive 3024995 7 0x00122 ∷ drive 3025050 7 0x08122 ∷ drive 3025050 0 0x00200 ∷ drive 3025050 7 0x00000 ∷ drive 3025050 0 0x04200 ∷ drive 3025050 7 0x00023 ∷ drive 3025105 7 0x08023 ∷ drive 3025105 0 0x00200 ∷ drive 3025105 7 0x00000 ∷ drive 3025105 0 0x04200 ∷ drive 3025105 7 0x00124 ∷ drive 3025160 7 0x08124 ∷ drive 3025160 0 0x00200 ∷ drive 3025160 7 0x00000 ∷ drive 3025160 0 0x04200 ∷ drive 3025160 7 0x00025 ∷ drive 3025215 7 0x08025 ∷ drive 3025215 0 0x00200 ∷ drive 3025215 7 0x00000 ∷ drive 3025215 0 0x04200 ∷ drive 3025215 7 0x00026 ∷ drive 3025270 7 0x08026 ∷ drive 3025270 0 0x00200 ∷ drive 3025270 7 0x00000 ∷ drive 3025270 0 0x04200 ∷ drive 3025270 7 0x00127 ∷ drive 3025325 7 0x08127 ∷ drive 3025325 0 0x00200 ∷ drive 3025325 7 0x00000 ∷ drive 3025325 0 0x04200 ∷ drive 3025325 7 0x00128 ∷ drive 3025380 7 0x08128 ∷ drive 3025380 0 0x00200 ∷ drive 3025380 7 0x00000 ∷ drive 3025380 0 0x04200 ∷ drive 3025380 7 0x00029 ∷ drive 3025435 7 0x08029 ∷ drive 3025435 0 0x00200 ∷ drive 3025435 7 0x00000 ∷ drive 3025435 0 0x04200 ∷ drive 3025435 7 0x0002a ∷ drive 3025490 7 0x0802a ∷ drive 3025490 0 0x00200 ∷ drive 3025490 7 0x00000 ∷ drive 3025490 0 0x04200 ∷ drive 3025490 7 0x0012b ∷ drive 3025545 7 0x0812b ∷ drive 3025545 0 0x00200 ∷ drive 3025545 7 0x00000 ∷ drive 3025545 0 0x04200 ∷ drive 3025545 7 0x0002c ∷ drive 3025600 7 0x0802c ∷ drive 3025600 0 0x00200 ∷ drive 3025600 7 0x00000 ∷ drive 3025600 0 0x04200 ∷ drive 3025600 7 0x0012d ∷ drive 3025655 7 0x0812d ∷ drive 3025655 0 0x00200 ∷ drive 3025655 7 0x00000 ∷ drive 3025655 0 0x04200 ∷ drive 3025655 7 0x0012e ∷ drive 3025710 7 0x0812e ∷ drive 3025710 0 0x00200 ∷ drive 3025710 7 0x00000 ∷ drive 3025710 0 0x04200 ∷ drive 3025710 7 0x0002f ∷ drive 3025765 7 0x0802f ∷ drive 3025765 0 0x00200 ∷ drive 3025765 7 0x00000 ∷ drive 3025765 0 0x01a00 ∷ drive 3026565 0 0x01b00 ∷ drive 3026620 0 0x05b00 ∷ drive 3026620 7 0x08000 ∷ drive 3026620 0 0x01a00 ∷ drive 3026620 7 0x00000 ∷ drive 3026620 0 0x03b00 ∷ drive 3027020 0 0x07b00 ∷ drive 3027020 7 0x08000 ∷ drive 3027020 0 0x03a00 ∷ drive 3027020 7 0x00000 ∷ drive 3027020 0 0x00000 ∷ drive 4027020 0 0x00201 ∷ drive 4029420 0 0x00601 ∷ drive 4030620 0 0x01781 ∷ drive 4030710 0 0x01581 ∷ drive 4031110 7 0x00200 ∷ drive 4031110 0 0x01781 ∷ drive 4031200 0 0x03a80 ∷ drive 4031200 7 0x00000 ∷ drive 4031600 0 0x07a80 ∷ drive 4031600 7 0x08000 ∷ drive 4031600 0 0x03a20 ∷ drive 4031600 7 0x00000 ∷ drive 4031655 0 0x07a20 ∷ drive 4031655 7 0x08000 ∷ drive 4031655 0 0x03b03 ∷ drive 4031655 7 0x00000 ∷ drive 4031710 0 0x07b03 ∷ drive 4031710 7 0x08000 ∷ drive 4031710 0 0x03a00 ∷ drive 4031710 7 0x00000 ∷ drive 4031710 0 0x01220 ∷ drive 4032110 0 0x05220 ∷ drive 4032110 7 0x08000 ∷ drive 4032110 0 0x01321 ∷ drive 4032110 7 0x00000 ∷ drive 4032165 0 0x05321 ∷ drive 4032165 7 0x08000 ∷ drive 4032165 0 0x01322 ∷ drive 4032165 7 0x00000 ∷ drive 4032220 0 0x05322 ∷ drive 4032220 7 0x08000 ∷ drive 4032220 0 0x01223 ∷ drive 4032220 7 0x00000 ∷ drive 4032275 0 0x05223 ∷ drive 4032275 7 0x08000 ∷ drive 4032275 0 0x01324 ∷ drive 4032275 7 0x00000 ∷ drive 4032330 0 0x05324 ∷ drive 4032330 7 0x08000 ∷ drive 4032330 0 0x01225 ∷ drive 4032330 7 0x00000 ∷ drive 4032385 0 0x05225 ∷ drive 4032385 7 0x08000 ∷ drive 4032385 0 0x01226 ∷ drive 4032385 7 0x00000 ∷ drive 4032440 0 0x05226 ∷ drive 4032440 7 0x08000 ∷ drive 4032440 0 0x01327 ∷ drive 4032440 7 0x00000 ∷ drive 4032495 0 0x05327 ∷ drive 4032495 7 0x08000 ∷ drive 4032495 0 0x01328 ∷ drive 4032495 7 0x00000 ∷ drive 4032550 0 0x05328 ∷ drive 4032550 7 0x08000 ∷ drive 4032550 0 0x01229 ∷ drive 4032550 7 0x00000 ∷ drive 4032605 0 0x05229 ∷ drive 4032605 7 0x08000 ∷ drive 4032605 0 0x0122a ∷ drive 4032605 7 0x00000 ∷ drive 4032660 0 0x0522a ∷ drive 4032660 7 0x08000 ∷ drive 4032660 0 0x0132b ∷ drive 4032660 7 0x00000 ∷ drive 4032715 0 0x0532b ∷ drive 4032715 7 0x08000 ∷ drive 4032715 0 0x0122c ∷ drive 4032715 7 0x00000 ∷ drive 4032770 0 0x0522c ∷ drive 4032770 7 0x08000 ∷ drive 4032770 0 0x0132d ∷ drive 4032770 7 0x00000 ∷ drive 4032825 0 0x0532d ∷ drive 4032825 7 0x08000 ∷ drive 4032825 0 0x0132e ∷ drive 4032825 7 0x00000 ∷ drive 4032880 0 0x0532e ∷ drive 4032880 7 0x08000 ∷ drive 4032880 0 0x0122f ∷ drive 4032880 7 0x00000 ∷ drive 4032935 0 0x0522f ∷ drive 4032935 7 0x08000 ∷ drive 4032935 0 0x01200 ∷ drive 4032935 7 0x00000 ∷ drive 4032935 0 0x01b00 ∷ drive 4033335 0 0x05b00 ∷ drive 4033335 7 0x08000 ∷ drive 4033335 0 0x01a00 ∷ drive 4033335 7 0x00000 ∷ drive 4033335 0 0x03b00 ∷ drive 4033735 0 0x07b00 ∷ drive 4033735 7 0x08000 ∷ drive 4033735 0 0x03a00 ∷ drive 4033735 7 0x00000 ∷ drive 4033735 0 0x00000 ∷ []

abbrev read_and_write_conflict_guard_events : List Event
read_and_write_conflict_guard_events = events.Accept (command 1) ∷ events.Accept (command 2) ∷ events.Accept (command 3) ∷ events.Accept (command 4) ∷ events.Run (command 1) ∷ events.End (command 1) 0 ∷ events.Run (command 2) ∷ events.End (command 2) 0 ∷ events.Run (command 3) ∷ events.End (command 3) 0 ∷ events.Run (command 4) ∷ events.End (command 4) 0 ∷ []

abbrev pub read_and_write_conflict_guard_shown : Shows
read_and_write_conflict_guard_shown = record { rows = reverse read_and_write_conflict_guard_rows; history = reverse read_and_write_conflict_guard_events; ended = true }

read_and_write_conflict_guard_run : shown (run_by_due read_and_write_conflict_guard 641) ≡ read_and_write_conflict_guard_shown
unfolding need_of sent_of ones union_below line_of form_out form_in least run_from
read_and_write_conflict_guard_run = refl

-- ---- refused_status_struck_guard

abbrev pub refused_status_struck_guard : ScenarioValue
refused_status_struck_guard = record {
  version = 1;
  hosts = record { dev = 7; latency = 0; most = 2; retries = 2; period = 0; offset = 0; lag = 0; offers = true } ∷ [];
  targets = record { dev = 5; latency = 0; retries = 2; disc = policies.Command; pick = picks.First; seek = 40000; period = 0; offset = 0; begins = false } ∷ [];
  units = record { target = 5; unit = 0; blocks = 1; size = 16; depth = 1 } ∷ [];
  fills = [];
  tapes = [];
  loads = [];
  commands = record { host = 7; target = 5; unit = 0; at = 0; tag = tags.Simple 1; cdb = (0 ∷ 0 ∷ 0 ∷ 0 ∷ 0 ∷ 0 ∷ []); payload = payloads.Nothing } ∷ record { host = 7; target = 5; unit = 0; at = 0; tag = tags.Simple 2; cdb = (0 ∷ 0 ∷ 0 ∷ 0 ∷ 0 ∷ 0 ∷ []); payload = payloads.Nothing } ∷ [];
  aborts = [];
  resets = [];
  faults = record { at = 15000; bit = 0 } ∷ [];
}

abbrev pub refused_status_struck_guard_rows : List Row
refused_status_struck_guard_rows = drive 1200 7 0x00280 ∷ drive 3600 7 0x00680 ∷ drive 4800 7 0x107a0 ∷ drive 4890 7 0x105a0 ∷ drive 5290 5 0x00200 ∷ drive 5380 7 0x10000 ∷ drive 5380 5 0x02a00 ∷ drive 5780 5 0x06a00 ∷ drive 5780 7 0x101c0 ∷ drive 5835 7 0x181c0 ∷ drive 5835 5 0x02a00 ∷ drive 5835 7 0x10000 ∷ drive 5835 5 0x06a00 ∷ drive 5835 7 0x10020 ∷ drive 5890 7 0x18020 ∷ drive 5890 5 0x02a00 ∷ drive 5890 7 0x10000 ∷ drive 5890 5 0x06a00 ∷ drive 5890 7 0x00001 ∷ drive 5980 7 0x08001 ∷ drive 5980 5 0x02a00 ∷ drive 5980 7 0x00000 ∷ drive 5980 5 0x00a00 ∷ drive 6380 5 0x04a00 ∷ drive 6380 7 0x00100 ∷ drive 6435 7 0x08100 ∷ drive 6435 5 0x00a00 ∷ drive 6435 7 0x00000 ∷ drive 6435 5 0x04a00 ∷ drive 6435 7 0x00100 ∷ drive 6490 7 0x08100 ∷ drive 6490 5 0x00a00 ∷ drive 6490 7 0x00000 ∷ drive 6490 5 0x04a00 ∷ drive 6490 7 0x00100 ∷ drive 6545 7 0x08100 ∷ drive 6545 5 0x00a00 ∷ drive 6545 7 0x00000 ∷ drive 6545 5 0x04a00 ∷ drive 6545 7 0x00100 ∷ drive 6600 7 0x08100 ∷ drive 6600 5 0x00a00 ∷ drive 6600 7 0x00000 ∷ drive 6600 5 0x04a00 ∷ drive 6600 7 0x00100 ∷ drive 6655 7 0x08100 ∷ drive 6655 5 0x00a00 ∷ drive 6655 7 0x00000 ∷ drive 6655 5 0x04a00 ∷ drive 6655 7 0x00100 ∷ drive 6710 7 0x08100 ∷ drive 6710 5 0x00a00 ∷ drive 6710 7 0x00000 ∷ drive 6710 5 0x03a00 ∷ drive 7510 5 0x03a04 ∷ drive 7565 5 0x07a04 ∷ drive 7565 7 0x08000 ∷ drive 7565 5 0x03a00 ∷ drive 7565 7 0x00000 ∷ drive 7565 5 0x00000 ∷ drive 8765 7 0x00280 ∷ drive 11165 7 0x00680 ∷ drive 12365 7 0x107a0 ∷ drive 12455 7 0x105a0 ∷ drive 12855 5 0x00200 ∷ drive 12945 7 0x10000 ∷ drive 12945 5 0x02a00 ∷ drive 13345 5 0x06a00 ∷ drive 13345 7 0x101c0 ∷ drive 13400 7 0x181c0 ∷ drive 13400 5 0x02a00 ∷ drive 13400 7 0x10000 ∷ drive 13400 5 0x06a00 ∷ drive 13400 7 0x10020 ∷ drive 13455 7 0x18020 ∷ drive 13455 5 0x02a00 ∷ drive 13455 7 0x10000 ∷ drive 13455 5 0x06a00 ∷ drive 13455 7 0x00002 ∷ drive 13545 7 0x08002 ∷ drive 13545 5 0x02a00 ∷ drive 13545 7 0x00000 ∷ drive 13545 5 0x00a00 ∷ drive 13945 5 0x04a00 ∷ drive 13945 7 0x00100 ∷ drive 14000 7 0x08100 ∷ drive 14000 5 0x00a00 ∷ drive 14000 7 0x00000 ∷ drive 14000 5 0x04a00 ∷ drive 14000 7 0x00100 ∷ drive 14055 7 0x08100 ∷ drive 14055 5 0x00a00 ∷ drive 14055 7 0x00000 ∷ drive 14055 5 0x04a00 ∷ drive 14055 7 0x00100 ∷ drive 14110 7 0x08100 ∷ drive 14110 5 0x00a00 ∷ drive 14110 7 0x00000 ∷ drive 14110 5 0x04a00 ∷ drive 14110 7 0x00100 ∷ drive 14165 7 0x08100 ∷ drive 14165 5 0x00a00 ∷ drive 14165 7 0x00000 ∷ drive 14165 5 0x04a00 ∷ drive 14165 7 0x00100 ∷ drive 14220 7 0x08100 ∷ drive 14220 5 0x00a00 ∷ drive 14220 7 0x00000 ∷ drive 14220 5 0x04a00 ∷ drive 14220 7 0x00100 ∷ drive 14275 7 0x08100 ∷ drive 14275 5 0x00a00 ∷ drive 14275 7 0x00000 ∷ drive 14275 5 0x01a00 ∷ drive 15075 5 0x01b28 ∷ drive 15130 5 0x05b28 ∷ strike 15130 7 0 ∷ drive 15130 7 0x18000 ∷ drive 15130 5 0x01a00 ∷ drive 15220 7 0x10000 ∷ drive 15220 5 0x02a00 ∷ drive 15620 5 0x06a00 ∷ drive 15620 7 0x00105 ∷ drive 15710 7 0x08105 ∷ drive 15710 5 0x02a00 ∷ drive 15710 7 0x00000 ∷ drive 15710 5 0x03a00 ∷ drive 16510 5 0x03b03 ∷ drive 16565 5 0x07b03 ∷ drive 16565 7 0x08000 ∷ drive 16565 5 0x03a00 ∷ drive 16565 7 0x00000 ∷ drive 16565 5 0x01b28 ∷ drive 16965 5 0x05b28 ∷ drive 16965 7 0x08000 ∷ drive 16965 5 0x01a00 ∷ drive 16965 7 0x00000 ∷ drive 16965 5 0x03b00 ∷ drive 17365 5 0x07b00 ∷ drive 17365 7 0x08000 ∷ drive 17365 5 0x03a00 ∷ drive 17365 7 0x00000 ∷ drive 17365 5 0x00000 ∷ drive 46710 5 0x00220 ∷ drive 49110 5 0x00620 ∷ drive 50310 5 0x017a0 ∷ drive 50400 5 0x015a0 ∷ drive 50800 7 0x00200 ∷ drive 50800 5 0x017a0 ∷ drive 50890 5 0x03a80 ∷ drive 50890 7 0x00000 ∷ drive 51290 5 0x07a80 ∷ drive 51290 7 0x08000 ∷ drive 51290 5 0x03a20 ∷ drive 51290 7 0x00000 ∷ drive 51345 5 0x07a20 ∷ drive 51345 7 0x08000 ∷ drive 51345 5 0x03a01 ∷ drive 51345 7 0x00000 ∷ drive 51400 5 0x07a01 ∷ drive 51400 7 0x08000 ∷ drive 51400 5 0x03a00 ∷ drive 51400 7 0x00000 ∷ drive 51400 5 0x01b00 ∷ drive 51800 5 0x05b00 ∷ drive 51800 7 0x08000 ∷ drive 51800 5 0x01a00 ∷ drive 51800 7 0x00000 ∷ drive 51800 5 0x03b00 ∷ drive 52200 5 0x07b00 ∷ drive 52200 7 0x08000 ∷ drive 52200 5 0x03a00 ∷ drive 52200 7 0x00000 ∷ drive 52200 5 0x00000 ∷ []

abbrev refused_status_struck_guard_events : List Event
refused_status_struck_guard_events = events.Accept (command 1) ∷ events.Refuse (command 2) ∷ events.End (command 2) 40 ∷ events.Run (command 1) ∷ events.End (command 1) 0 ∷ []

abbrev pub refused_status_struck_guard_shown : Shows
refused_status_struck_guard_shown = record { rows = reverse refused_status_struck_guard_rows; history = reverse refused_status_struck_guard_events; ended = true }

refused_status_struck_guard_run : shown (run_by_due refused_status_struck_guard 175) ≡ refused_status_struck_guard_shown
unfolding need_of sent_of ones union_below line_of form_out form_in least run_from
refused_status_struck_guard_run = refl

-- ---- reset_attention_stays_guard

abbrev pub reset_attention_stays_guard : ScenarioValue
reset_attention_stays_guard = record {
  version = 1;
  hosts = record { dev = 7; latency = 0; most = 4; retries = 2; period = 0; offset = 0; lag = 0; offers = true } ∷ record { dev = 6; latency = 0; most = 4; retries = 2; period = 0; offset = 0; lag = 0; offers = true } ∷ [];
  targets = record { dev = 0; latency = 0; retries = 2; disc = policies.Command; pick = picks.First; seek = 1000000; period = 0; offset = 0; begins = false } ∷ [];
  units = record { target = 0; unit = 0; blocks = 4; size = 16; depth = 4 } ∷ [];
  fills = [];
  tapes = [];
  loads = [];
  commands = record { host = 6; target = 0; unit = 0; at = 60000; tag = tags.Simple 1; cdb = (0 ∷ 0 ∷ 0 ∷ 0 ∷ 0 ∷ 0 ∷ []); payload = payloads.Nothing } ∷ record { host = 6; target = 0; unit = 0; at = 300000; tag = tags.Simple 2; cdb = (0 ∷ 0 ∷ 0 ∷ 0 ∷ 0 ∷ 0 ∷ []); payload = payloads.Nothing } ∷ [];
  aborts = record { host = 7; target = 0; unit = 0; at = 100000; what = aborts.WholeQueue } ∷ [];
  resets = record { dev = 7; at = 1000 } ∷ [];
  faults = [];
}

abbrev pub reset_attention_stays_guard_rows : List Row
reset_attention_stays_guard_rows = drive 1000 7 0x20000 ∷ drive 26000 7 0x00000 ∷ drive 60000 6 0x00240 ∷ drive 62400 6 0x00640 ∷ drive 63600 6 0x10741 ∷ drive 63690 6 0x10541 ∷ drive 64090 0 0x00200 ∷ drive 64180 6 0x10000 ∷ drive 64180 0 0x02a00 ∷ drive 64580 0 0x06a00 ∷ drive 64580 6 0x101c0 ∷ drive 64635 6 0x181c0 ∷ drive 64635 0 0x02a00 ∷ drive 64635 6 0x10000 ∷ drive 64635 0 0x06a00 ∷ drive 64635 6 0x10020 ∷ drive 64690 6 0x18020 ∷ drive 64690 0 0x02a00 ∷ drive 64690 6 0x10000 ∷ drive 64690 0 0x06a00 ∷ drive 64690 6 0x00001 ∷ drive 64780 6 0x08001 ∷ drive 64780 0 0x02a00 ∷ drive 64780 6 0x00000 ∷ drive 64780 0 0x00a00 ∷ drive 65180 0 0x04a00 ∷ drive 65180 6 0x00100 ∷ drive 65235 6 0x08100 ∷ drive 65235 0 0x00a00 ∷ drive 65235 6 0x00000 ∷ drive 65235 0 0x04a00 ∷ drive 65235 6 0x00100 ∷ drive 65290 6 0x08100 ∷ drive 65290 0 0x00a00 ∷ drive 65290 6 0x00000 ∷ drive 65290 0 0x04a00 ∷ drive 65290 6 0x00100 ∷ drive 65345 6 0x08100 ∷ drive 65345 0 0x00a00 ∷ drive 65345 6 0x00000 ∷ drive 65345 0 0x04a00 ∷ drive 65345 6 0x00100 ∷ drive 65400 6 0x08100 ∷ drive 65400 0 0x00a00 ∷ drive 65400 6 0x00000 ∷ drive 65400 0 0x04a00 ∷ drive 65400 6 0x00100 ∷ drive 65455 6 0x08100 ∷ drive 65455 0 0x00a00 ∷ drive 65455 6 0x00000 ∷ drive 65455 0 0x04a00 ∷ drive 65455 6 0x00100 ∷ drive 65510 6 0x08100 ∷ drive 65510 0 0x00a00 ∷ drive 65510 6 0x00000 ∷ drive 65510 0 0x03a00 ∷ drive 66310 0 0x03a04 ∷ drive 66365 0 0x07a04 ∷ drive 66365 6 0x08000 ∷ drive 66365 0 0x03a00 ∷ drive 66365 6 0x00000 ∷ drive 66365 0 0x00000 ∷ drive 100000 7 0x00280 ∷ drive 102400 7 0x00680 ∷ drive 103600 7 0x10781 ∷ drive 103690 7 0x10581 ∷ drive 104090 0 0x00200 ∷ drive 104180 7 0x10000 ∷ drive 104180 0 0x02a00 ∷ drive 104580 0 0x06a00 ∷ drive 104580 7 0x10080 ∷ drive 104635 7 0x18080 ∷ drive 104635 0 0x02a00 ∷ drive 104635 7 0x10000 ∷ drive 104635 0 0x06a00 ∷ drive 104635 7 0x0000e ∷ drive 104725 7 0x0800e ∷ drive 104725 0 0x02a00 ∷ drive 104725 7 0x00000 ∷ drive 104725 0 0x00000 ∷ drive 300000 6 0x00240 ∷ drive 302400 6 0x00640 ∷ drive 303600 6 0x10741 ∷ drive 303690 6 0x10541 ∷ drive 304090 0 0x00200 ∷ drive 304180 6 0x10000 ∷ drive 304180 0 0x02a00 ∷ drive 304580 0 0x06a00 ∷ drive 304580 6 0x101c0 ∷ drive 304635 6 0x181c0 ∷ drive 304635 0 0x02a00 ∷ drive 304635 6 0x10000 ∷ drive 304635 0 0x06a00 ∷ drive 304635 6 0x10020 ∷ drive 304690 6 0x18020 ∷ drive 304690 0 0x02a00 ∷ drive 304690 6 0x10000 ∷ drive 304690 0 0x06a00 ∷ drive 304690 6 0x00002 ∷ drive 304780 6 0x08002 ∷ drive 304780 0 0x02a00 ∷ drive 304780 6 0x00000 ∷ drive 304780 0 0x00a00 ∷ drive 305180 0 0x04a00 ∷ drive 305180 6 0x00100 ∷ drive 305235 6 0x08100 ∷ drive 305235 0 0x00a00 ∷ drive 305235 6 0x00000 ∷ drive 305235 0 0x04a00 ∷ drive 305235 6 0x00100 ∷ drive 305290 6 0x08100 ∷ drive 305290 0 0x00a00 ∷ drive 305290 6 0x00000 ∷ drive 305290 0 0x04a00 ∷ drive 305290 6 0x00100 ∷ drive 305345 6 0x08100 ∷ drive 305345 0 0x00a00 ∷ drive 305345 6 0x00000 ∷ drive 305345 0 0x04a00 ∷ drive 305345 6 0x00100 ∷ drive 305400 6 0x08100 ∷ drive 305400 0 0x00a00 ∷ drive 305400 6 0x00000 ∷ drive 305400 0 0x04a00 ∷ drive 305400 6 0x00100 ∷ drive 305455 6 0x08100 ∷ drive 305455 0 0x00a00 ∷ drive 305455 6 0x00000 ∷ drive 305455 0 0x04a00 ∷ drive 305455 6 0x00100 ∷ drive 305510 6 0x08100 ∷ drive 305510 0 0x00a00 ∷ drive 305510 6 0x00000 ∷ drive 305510 0 0x03a00 ∷ drive 306310 0 0x03a04 ∷ drive 306365 0 0x07a04 ∷ drive 306365 6 0x08000 ∷ drive 306365 0 0x03a00 ∷ drive 306365 6 0x00000 ∷ drive 306365 0 0x00000 ∷ drive 1305510 0 0x00201 ∷ drive 1307910 0 0x00601 ∷ drive 1309110 0 0x01741 ∷ drive 1309200 0 0x01541 ∷ drive 1309600 6 0x00200 ∷ drive 1309600 0 0x01741 ∷ drive 1309690 0 0x03a80 ∷ drive 1309690 6 0x00000 ∷ drive 1310090 0 0x07a80 ∷ drive 1310090 6 0x08000 ∷ drive 1310090 0 0x03a20 ∷ drive 1310090 6 0x00000 ∷ drive 1310145 0 0x07a20 ∷ drive 1310145 6 0x08000 ∷ drive 1310145 0 0x03a02 ∷ drive 1310145 6 0x00000 ∷ drive 1310200 0 0x07a02 ∷ drive 1310200 6 0x08000 ∷ drive 1310200 0 0x03a00 ∷ drive 1310200 6 0x00000 ∷ drive 1310200 0 0x01a02 ∷ drive 1310600 0 0x05a02 ∷ drive 1310600 6 0x08000 ∷ drive 1310600 0 0x01a00 ∷ drive 1310600 6 0x00000 ∷ drive 1310600 0 0x03b00 ∷ drive 1311000 0 0x07b00 ∷ drive 1311000 6 0x08000 ∷ drive 1311000 0 0x03a00 ∷ drive 1311000 6 0x00000 ∷ drive 1311000 0 0x00000 ∷ drive 1312200 6 0x00240 ∷ drive 1314600 6 0x00640 ∷ drive 1315800 6 0x10741 ∷ drive 1315890 6 0x10541 ∷ drive 1316290 0 0x00200 ∷ drive 1316380 6 0x10000 ∷ drive 1316380 0 0x02a00 ∷ drive 1316780 0 0x06a00 ∷ drive 1316780 6 0x00080 ∷ drive 1316870 6 0x08080 ∷ drive 1316870 0 0x02a00 ∷ drive 1316870 6 0x00000 ∷ drive 1316870 0 0x00a00 ∷ drive 1317270 0 0x04a00 ∷ drive 1317270 6 0x00103 ∷ drive 1317325 6 0x08103 ∷ drive 1317325 0 0x00a00 ∷ drive 1317325 6 0x00000 ∷ drive 1317325 0 0x04a00 ∷ drive 1317325 6 0x00100 ∷ drive 1317380 6 0x08100 ∷ drive 1317380 0 0x00a00 ∷ drive 1317380 6 0x00000 ∷ drive 1317380 0 0x04a00 ∷ drive 1317380 6 0x00100 ∷ drive 1317435 6 0x08100 ∷ drive 1317435 0 0x00a00 ∷ drive 1317435 6 0x00000 ∷ drive 1317435 0 0x04a00 ∷ drive 1317435 6 0x00100 ∷ drive 1317490 6 0x08100 ∷ drive 1317490 0 0x00a00 ∷ drive 1317490 6 0x00000 ∷ drive 1317490 0 0x04a00 ∷ drive 1317490 6 0x00112 ∷ drive 1317545 6 0x08112 ∷ drive 1317545 0 0x00a00 ∷ drive 1317545 6 0x00000 ∷ drive 1317545 0 0x04a00 ∷ drive 1317545 6 0x00100 ∷ drive 1317600 6 0x08100 ∷ drive 1317600 0 0x00a00 ∷ drive 1317600 6 0x00000 ∷ drive 1317600 0 0x01200 ∷ drive 1318400 0 0x01270 ∷ drive 1318455 0 0x05270 ∷ drive 1318455 6 0x08000 ∷ drive 1318455 0 0x01300 ∷ drive 1318455 6 0x00000 ∷ drive 1318510 0 0x05300 ∷ drive 1318510 6 0x08000 ∷ drive 1318510 0 0x01306 ∷ drive 1318510 6 0x00000 ∷ drive 1318565 0 0x05306 ∷ drive 1318565 6 0x08000 ∷ drive 1318565 0 0x01300 ∷ drive 1318565 6 0x00000 ∷ drive 1318620 0 0x05300 ∷ drive 1318620 6 0x08000 ∷ drive 1318620 0 0x01300 ∷ drive 1318620 6 0x00000 ∷ drive 1318675 0 0x05300 ∷ drive 1318675 6 0x08000 ∷ drive 1318675 0 0x01300 ∷ drive 1318675 6 0x00000 ∷ drive 1318730 0 0x05300 ∷ drive 1318730 6 0x08000 ∷ drive 1318730 0 0x01300 ∷ drive 1318730 6 0x00000 ∷ drive 1318785 0 0x05300 ∷ drive 1318785 6 0x08000 ∷ drive 1318785 0 0x0130a ∷ drive 1318785 6 0x00000 ∷ drive 1318840 0 0x0530a ∷ drive 1318840 6 0x08000 ∷ drive 1318840 0 0x01300 ∷ drive 1318840 6 0x00000 ∷ drive 1318895 0 0x05300 ∷ drive 1318895 6 0x08000 ∷ drive 1318895 0 0x01300 ∷ drive 1318895 6 0x00000 ∷ drive 1318950 0 0x05300 ∷ drive 1318950 6 0x08000 ∷ drive 1318950 0 0x01300 ∷ drive 1318950 6 0x00000 ∷ drive 1319005 0 0x05300 ∷ drive 1319005 6 0x08000 ∷ drive 1319005 0 0x01300 ∷ drive 1319005 6 0x00000 ∷ drive 1319060 0 0x05300 ∷ drive 1319060 6 0x08000 ∷ drive 1319060 0 0x01229 ∷ drive 1319060 6 0x00000 ∷ drive 1319115 0 0x05229 ∷ drive 1319115 6 0x08000 ∷ drive 1319115 0 0x01300 ∷ drive 1319115 6 0x00000 ∷ drive 1319170 0 0x05300 ∷ drive 1319170 6 0x08000 ∷ drive 1319170 0 0x01300 ∷ drive 1319170 6 0x00000 ∷ drive 1319225 0 0x05300 ∷ drive 1319225 6 0x08000 ∷ drive 1319225 0 0x01300 ∷ drive 1319225 6 0x00000 ∷ drive 1319280 0 0x05300 ∷ drive 1319280 6 0x08000 ∷ drive 1319280 0 0x01300 ∷ drive 1319280 6 0x00000 ∷ drive 1319335 0 0x05300 ∷ drive 1319335 6 0x08000 ∷ drive 1319335 0 0x01300 ∷ drive 1319335 6 0x00000 ∷ drive 1319390 0 0x05300 ∷ drive 1319390 6 0x08000 ∷ drive 1319390 0 0x01200 ∷ drive 1319390 6 0x00000 ∷ drive 1319390 0 0x01b00 ∷ drive 1319790 0 0x05b00 ∷ drive 1319790 6 0x08000 ∷ drive 1319790 0 0x01a00 ∷ drive 1319790 6 0x00000 ∷ drive 1319790 0 0x03b00 ∷ drive 1320190 0 0x07b00 ∷ drive 1320190 6 0x08000 ∷ drive 1320190 0 0x03a00 ∷ drive 1320190 6 0x00000 ∷ drive 1320190 0 0x00000 ∷ []

abbrev reset_attention_stays_guard_events : List Event
reset_attention_stays_guard_events = events.Reset 7 ∷ events.Accept (command 1) ∷ events.Aborted 7 0 0 aborts.WholeQueue ∷ events.Accept (command 2) ∷ events.Run (command 2) ∷ events.End (command 2) 2 ∷ events.Accept (sense 2) ∷ events.Run (sense 2) ∷ events.End (sense 2) 0 ∷ []

abbrev pub reset_attention_stays_guard_shown : Shows
reset_attention_stays_guard_shown = record { rows = reverse reset_attention_stays_guard_rows; history = reverse reset_attention_stays_guard_events; ended = true }

reset_attention_stays_guard_run : shown (run_by_due reset_attention_stays_guard 300) ≡ reset_attention_stays_guard_shown
unfolding need_of sent_of ones union_below line_of form_out form_in least run_from
reset_attention_stays_guard_run = refl

-- ---- reset_in_a_calling_is_no_try_guard

abbrev pub reset_in_a_calling_is_no_try_guard : ScenarioValue
reset_in_a_calling_is_no_try_guard = record {
  version = 1;
  hosts = record { dev = 7; latency = 0; most = 1; retries = 0; period = 0; offset = 0; lag = 0; offers = true } ∷ [];
  targets = record { dev = 0; latency = 0; retries = 2; disc = policies.Never; pick = picks.First; seek = 0; period = 0; offset = 0; begins = false } ∷ [];
  units = record { target = 0; unit = 0; blocks = 1; size = 16; depth = 1 } ∷ [];
  fills = [];
  tapes = [];
  loads = [];
  commands = record { host = 7; target = 0; unit = 0; at = 0; tag = tags.Untagged; cdb = (0 ∷ 0 ∷ 0 ∷ 0 ∷ 0 ∷ 0 ∷ []); payload = payloads.Nothing } ∷ [];
  aborts = [];
  resets = record { dev = 0; at = 5000 } ∷ [];
  faults = [];
}

abbrev pub reset_in_a_calling_is_no_try_guard_rows : List Row
reset_in_a_calling_is_no_try_guard_rows = drive 1200 7 0x00280 ∷ drive 3600 7 0x00680 ∷ drive 4800 7 0x10781 ∷ drive 4890 7 0x10581 ∷ drive 5000 0 0x20000 ∷ drive 5000 7 0x00000 ∷ drive 30000 0 0x00000 ∷ drive 31200 7 0x00280 ∷ drive 33600 7 0x00680 ∷ drive 34800 7 0x10781 ∷ drive 34890 7 0x10581 ∷ drive 35290 0 0x00200 ∷ drive 35380 7 0x10000 ∷ drive 35380 0 0x02a00 ∷ drive 35780 0 0x06a00 ∷ drive 35780 7 0x001c0 ∷ drive 35870 7 0x081c0 ∷ drive 35870 0 0x02a00 ∷ drive 35870 7 0x00000 ∷ drive 35870 0 0x00a00 ∷ drive 36270 0 0x04a00 ∷ drive 36270 7 0x00100 ∷ drive 36325 7 0x08100 ∷ drive 36325 0 0x00a00 ∷ drive 36325 7 0x00000 ∷ drive 36325 0 0x04a00 ∷ drive 36325 7 0x00100 ∷ drive 36380 7 0x08100 ∷ drive 36380 0 0x00a00 ∷ drive 36380 7 0x00000 ∷ drive 36380 0 0x04a00 ∷ drive 36380 7 0x00100 ∷ drive 36435 7 0x08100 ∷ drive 36435 0 0x00a00 ∷ drive 36435 7 0x00000 ∷ drive 36435 0 0x04a00 ∷ drive 36435 7 0x00100 ∷ drive 36490 7 0x08100 ∷ drive 36490 0 0x00a00 ∷ drive 36490 7 0x00000 ∷ drive 36490 0 0x04a00 ∷ drive 36490 7 0x00100 ∷ drive 36545 7 0x08100 ∷ drive 36545 0 0x00a00 ∷ drive 36545 7 0x00000 ∷ drive 36545 0 0x04a00 ∷ drive 36545 7 0x00100 ∷ drive 36600 7 0x08100 ∷ drive 36600 0 0x00a00 ∷ drive 36600 7 0x00000 ∷ drive 36600 0 0x01a00 ∷ drive 37400 0 0x01a02 ∷ drive 37455 0 0x05a02 ∷ drive 37455 7 0x08000 ∷ drive 37455 0 0x01a00 ∷ drive 37455 7 0x00000 ∷ drive 37455 0 0x03b00 ∷ drive 37855 0 0x07b00 ∷ drive 37855 7 0x08000 ∷ drive 37855 0 0x03a00 ∷ drive 37855 7 0x00000 ∷ drive 37855 0 0x00000 ∷ drive 39055 7 0x00280 ∷ drive 41455 7 0x00680 ∷ drive 42655 7 0x10781 ∷ drive 42745 7 0x10581 ∷ drive 43145 0 0x00200 ∷ drive 43235 7 0x10000 ∷ drive 43235 0 0x02a00 ∷ drive 43635 0 0x06a00 ∷ drive 43635 7 0x00080 ∷ drive 43725 7 0x08080 ∷ drive 43725 0 0x02a00 ∷ drive 43725 7 0x00000 ∷ drive 43725 0 0x00a00 ∷ drive 44125 0 0x04a00 ∷ drive 44125 7 0x00103 ∷ drive 44180 7 0x08103 ∷ drive 44180 0 0x00a00 ∷ drive 44180 7 0x00000 ∷ drive 44180 0 0x04a00 ∷ drive 44180 7 0x00100 ∷ drive 44235 7 0x08100 ∷ drive 44235 0 0x00a00 ∷ drive 44235 7 0x00000 ∷ drive 44235 0 0x04a00 ∷ drive 44235 7 0x00100 ∷ drive 44290 7 0x08100 ∷ drive 44290 0 0x00a00 ∷ drive 44290 7 0x00000 ∷ drive 44290 0 0x04a00 ∷ drive 44290 7 0x00100 ∷ drive 44345 7 0x08100 ∷ drive 44345 0 0x00a00 ∷ drive 44345 7 0x00000 ∷ drive 44345 0 0x04a00 ∷ drive 44345 7 0x00112 ∷ drive 44400 7 0x08112 ∷ drive 44400 0 0x00a00 ∷ drive 44400 7 0x00000 ∷ drive 44400 0 0x04a00 ∷ drive 44400 7 0x00100 ∷ drive 44455 7 0x08100 ∷ drive 44455 0 0x00a00 ∷ drive 44455 7 0x00000 ∷ drive 44455 0 0x01200 ∷ drive 45255 0 0x01270 ∷ drive 45310 0 0x05270 ∷ drive 45310 7 0x08000 ∷ drive 45310 0 0x01300 ∷ drive 45310 7 0x00000 ∷ drive 45365 0 0x05300 ∷ drive 45365 7 0x08000 ∷ drive 45365 0 0x01306 ∷ drive 45365 7 0x00000 ∷ drive 45420 0 0x05306 ∷ drive 45420 7 0x08000 ∷ drive 45420 0 0x01300 ∷ drive 45420 7 0x00000 ∷ drive 45475 0 0x05300 ∷ drive 45475 7 0x08000 ∷ drive 45475 0 0x01300 ∷ drive 45475 7 0x00000 ∷ drive 45530 0 0x05300 ∷ drive 45530 7 0x08000 ∷ drive 45530 0 0x01300 ∷ drive 45530 7 0x00000 ∷ drive 45585 0 0x05300 ∷ drive 45585 7 0x08000 ∷ drive 45585 0 0x01300 ∷ drive 45585 7 0x00000 ∷ drive 45640 0 0x05300 ∷ drive 45640 7 0x08000 ∷ drive 45640 0 0x0130a ∷ drive 45640 7 0x00000 ∷ drive 45695 0 0x0530a ∷ drive 45695 7 0x08000 ∷ drive 45695 0 0x01300 ∷ drive 45695 7 0x00000 ∷ drive 45750 0 0x05300 ∷ drive 45750 7 0x08000 ∷ drive 45750 0 0x01300 ∷ drive 45750 7 0x00000 ∷ drive 45805 0 0x05300 ∷ drive 45805 7 0x08000 ∷ drive 45805 0 0x01300 ∷ drive 45805 7 0x00000 ∷ drive 45860 0 0x05300 ∷ drive 45860 7 0x08000 ∷ drive 45860 0 0x01300 ∷ drive 45860 7 0x00000 ∷ drive 45915 0 0x05300 ∷ drive 45915 7 0x08000 ∷ drive 45915 0 0x01229 ∷ drive 45915 7 0x00000 ∷ drive 45970 0 0x05229 ∷ drive 45970 7 0x08000 ∷ drive 45970 0 0x01300 ∷ drive 45970 7 0x00000 ∷ drive 46025 0 0x05300 ∷ drive 46025 7 0x08000 ∷ drive 46025 0 0x01300 ∷ drive 46025 7 0x00000 ∷ drive 46080 0 0x05300 ∷ drive 46080 7 0x08000 ∷ drive 46080 0 0x01300 ∷ drive 46080 7 0x00000 ∷ drive 46135 0 0x05300 ∷ drive 46135 7 0x08000 ∷ drive 46135 0 0x01300 ∷ drive 46135 7 0x00000 ∷ drive 46190 0 0x05300 ∷ drive 46190 7 0x08000 ∷ drive 46190 0 0x01300 ∷ drive 46190 7 0x00000 ∷ drive 46245 0 0x05300 ∷ drive 46245 7 0x08000 ∷ drive 46245 0 0x01200 ∷ drive 46245 7 0x00000 ∷ drive 46245 0 0x01b00 ∷ drive 46645 0 0x05b00 ∷ drive 46645 7 0x08000 ∷ drive 46645 0 0x01a00 ∷ drive 46645 7 0x00000 ∷ drive 46645 0 0x03b00 ∷ drive 47045 0 0x07b00 ∷ drive 47045 7 0x08000 ∷ drive 47045 0 0x03a00 ∷ drive 47045 7 0x00000 ∷ drive 47045 0 0x00000 ∷ []

abbrev reset_in_a_calling_is_no_try_guard_events : List Event
reset_in_a_calling_is_no_try_guard_events = events.Reset 0 ∷ events.Accept (command 1) ∷ events.Run (command 1) ∷ events.End (command 1) 2 ∷ events.Accept (sense 1) ∷ events.Run (sense 1) ∷ events.End (sense 1) 0 ∷ []

abbrev pub reset_in_a_calling_is_no_try_guard_shown : Shows
reset_in_a_calling_is_no_try_guard_shown = record { rows = reverse reset_in_a_calling_is_no_try_guard_rows; history = reverse reset_in_a_calling_is_no_try_guard_events; ended = true }

reset_in_a_calling_is_no_try_guard_run : shown (run_by_due reset_in_a_calling_is_no_try_guard 191) ≡ reset_in_a_calling_is_no_try_guard_shown
unfolding need_of sent_of ones union_below line_of form_out form_in least run_from
reset_in_a_calling_is_no_try_guard_run = refl

-- ---- sense_of_another_and_device_guard

abbrev pub sense_of_another_and_device_guard : ScenarioValue
sense_of_another_and_device_guard = record {
  version = 1;
  hosts = record { dev = 7; latency = 0; most = 4; retries = 2; period = 0; offset = 0; lag = 0; offers = true } ∷ record { dev = 6; latency = 0; most = 4; retries = 2; period = 0; offset = 0; lag = 0; offers = true } ∷ [];
  targets = record { dev = 0; latency = 0; retries = 2; disc = policies.Never; pick = picks.First; seek = 0; period = 0; offset = 0; begins = false } ∷ [];
  units = record { target = 0; unit = 0; blocks = 1; size = 16; depth = 4 } ∷ [];
  fills = [];
  tapes = [];
  loads = [];
  commands = record { host = 6; target = 0; unit = 0; at = 0; tag = tags.Untagged; cdb = (8 ∷ 0 ∷ 0 ∷ 1 ∷ 1 ∷ 0 ∷ []); payload = payloads.Nothing } ∷ [];
  aborts = record { host = 7; target = 0; unit = 0; at = 5000; what = aborts.Device } ∷ [];
  resets = [];
  faults = [];
}

abbrev pub sense_of_another_and_device_guard_rows : List Row
sense_of_another_and_device_guard_rows = drive 1200 6 0x00240 ∷ drive 3600 6 0x00640 ∷ drive 4800 6 0x10741 ∷ drive 4890 6 0x10541 ∷ drive 5290 0 0x00200 ∷ drive 5380 6 0x10000 ∷ drive 5380 0 0x02a00 ∷ drive 5780 0 0x06a00 ∷ drive 5780 6 0x001c0 ∷ drive 5870 6 0x081c0 ∷ drive 5870 0 0x02a00 ∷ drive 5870 6 0x00000 ∷ drive 5870 0 0x00a00 ∷ drive 6270 0 0x04a00 ∷ drive 6270 6 0x00008 ∷ drive 6325 6 0x08008 ∷ drive 6325 0 0x00a00 ∷ drive 6325 6 0x00000 ∷ drive 6325 0 0x04a00 ∷ drive 6325 6 0x00100 ∷ drive 6380 6 0x08100 ∷ drive 6380 0 0x00a00 ∷ drive 6380 6 0x00000 ∷ drive 6380 0 0x04a00 ∷ drive 6380 6 0x00100 ∷ drive 6435 6 0x08100 ∷ drive 6435 0 0x00a00 ∷ drive 6435 6 0x00000 ∷ drive 6435 0 0x04a00 ∷ drive 6435 6 0x00001 ∷ drive 6490 6 0x08001 ∷ drive 6490 0 0x00a00 ∷ drive 6490 6 0x00000 ∷ drive 6490 0 0x04a00 ∷ drive 6490 6 0x00001 ∷ drive 6545 6 0x08001 ∷ drive 6545 0 0x00a00 ∷ drive 6545 6 0x00000 ∷ drive 6545 0 0x04a00 ∷ drive 6545 6 0x00100 ∷ drive 6600 6 0x08100 ∷ drive 6600 0 0x00a00 ∷ drive 6600 6 0x00000 ∷ drive 6600 0 0x01a00 ∷ drive 7400 0 0x01a02 ∷ drive 7455 0 0x05a02 ∷ drive 7455 6 0x08000 ∷ drive 7455 0 0x01a00 ∷ drive 7455 6 0x00000 ∷ drive 7455 0 0x03b00 ∷ drive 7855 0 0x07b00 ∷ drive 7855 6 0x08000 ∷ drive 7855 0 0x03a00 ∷ drive 7855 6 0x00000 ∷ drive 7855 0 0x00000 ∷ drive 9055 7 0x00280 ∷ drive 9055 6 0x00240 ∷ drive 11455 7 0x00680 ∷ drive 11455 6 0x00000 ∷ drive 12655 7 0x10781 ∷ drive 12745 7 0x10581 ∷ drive 13145 0 0x00200 ∷ drive 13235 7 0x10000 ∷ drive 13235 0 0x02a00 ∷ drive 13635 0 0x06a00 ∷ drive 13635 7 0x10080 ∷ drive 13690 7 0x18080 ∷ drive 13690 0 0x02a00 ∷ drive 13690 7 0x10000 ∷ drive 13690 0 0x06a00 ∷ drive 13690 7 0x0010c ∷ drive 13780 7 0x0810c ∷ drive 13780 0 0x02a00 ∷ drive 13780 7 0x00000 ∷ drive 13780 0 0x00000 ∷ []

abbrev sense_of_another_and_device_guard_events : List Event
sense_of_another_and_device_guard_events = events.Accept (command 1) ∷ events.Run (command 1) ∷ events.End (command 1) 2 ∷ events.Aborted 7 0 0 aborts.Device ∷ []

abbrev pub sense_of_another_and_device_guard_shown : Shows
sense_of_another_and_device_guard_shown = record { rows = reverse sense_of_another_and_device_guard_rows; history = reverse sense_of_another_and_device_guard_events; ended = true }

sense_of_another_and_device_guard_run : shown (run_by_due sense_of_another_and_device_guard 76) ≡ sense_of_another_and_device_guard_shown
unfolding need_of sent_of ones union_below line_of form_out form_in least run_from
sense_of_another_and_device_guard_run = refl

-- ---- sense_of_another_and_queue_guard

abbrev pub sense_of_another_and_queue_guard : ScenarioValue
sense_of_another_and_queue_guard = record {
  version = 1;
  hosts = record { dev = 7; latency = 0; most = 4; retries = 2; period = 0; offset = 0; lag = 0; offers = true } ∷ record { dev = 6; latency = 0; most = 4; retries = 2; period = 0; offset = 0; lag = 0; offers = true } ∷ [];
  targets = record { dev = 0; latency = 0; retries = 2; disc = policies.Never; pick = picks.First; seek = 0; period = 0; offset = 0; begins = false } ∷ [];
  units = record { target = 0; unit = 0; blocks = 1; size = 16; depth = 4 } ∷ [];
  fills = [];
  tapes = [];
  loads = [];
  commands = record { host = 6; target = 0; unit = 0; at = 0; tag = tags.Untagged; cdb = (8 ∷ 0 ∷ 0 ∷ 1 ∷ 1 ∷ 0 ∷ []); payload = payloads.Nothing } ∷ [];
  aborts = record { host = 7; target = 0; unit = 0; at = 5000; what = aborts.WholeQueue } ∷ [];
  resets = [];
  faults = [];
}

abbrev pub sense_of_another_and_queue_guard_rows : List Row
sense_of_another_and_queue_guard_rows = drive 1200 6 0x00240 ∷ drive 3600 6 0x00640 ∷ drive 4800 6 0x10741 ∷ drive 4890 6 0x10541 ∷ drive 5290 0 0x00200 ∷ drive 5380 6 0x10000 ∷ drive 5380 0 0x02a00 ∷ drive 5780 0 0x06a00 ∷ drive 5780 6 0x001c0 ∷ drive 5870 6 0x081c0 ∷ drive 5870 0 0x02a00 ∷ drive 5870 6 0x00000 ∷ drive 5870 0 0x00a00 ∷ drive 6270 0 0x04a00 ∷ drive 6270 6 0x00008 ∷ drive 6325 6 0x08008 ∷ drive 6325 0 0x00a00 ∷ drive 6325 6 0x00000 ∷ drive 6325 0 0x04a00 ∷ drive 6325 6 0x00100 ∷ drive 6380 6 0x08100 ∷ drive 6380 0 0x00a00 ∷ drive 6380 6 0x00000 ∷ drive 6380 0 0x04a00 ∷ drive 6380 6 0x00100 ∷ drive 6435 6 0x08100 ∷ drive 6435 0 0x00a00 ∷ drive 6435 6 0x00000 ∷ drive 6435 0 0x04a00 ∷ drive 6435 6 0x00001 ∷ drive 6490 6 0x08001 ∷ drive 6490 0 0x00a00 ∷ drive 6490 6 0x00000 ∷ drive 6490 0 0x04a00 ∷ drive 6490 6 0x00001 ∷ drive 6545 6 0x08001 ∷ drive 6545 0 0x00a00 ∷ drive 6545 6 0x00000 ∷ drive 6545 0 0x04a00 ∷ drive 6545 6 0x00100 ∷ drive 6600 6 0x08100 ∷ drive 6600 0 0x00a00 ∷ drive 6600 6 0x00000 ∷ drive 6600 0 0x01a00 ∷ drive 7400 0 0x01a02 ∷ drive 7455 0 0x05a02 ∷ drive 7455 6 0x08000 ∷ drive 7455 0 0x01a00 ∷ drive 7455 6 0x00000 ∷ drive 7455 0 0x03b00 ∷ drive 7855 0 0x07b00 ∷ drive 7855 6 0x08000 ∷ drive 7855 0 0x03a00 ∷ drive 7855 6 0x00000 ∷ drive 7855 0 0x00000 ∷ drive 9055 7 0x00280 ∷ drive 9055 6 0x00240 ∷ drive 11455 7 0x00680 ∷ drive 11455 6 0x00000 ∷ drive 12655 7 0x10781 ∷ drive 12745 7 0x10581 ∷ drive 13145 0 0x00200 ∷ drive 13235 7 0x10000 ∷ drive 13235 0 0x02a00 ∷ drive 13635 0 0x06a00 ∷ drive 13635 7 0x10080 ∷ drive 13690 7 0x18080 ∷ drive 13690 0 0x02a00 ∷ drive 13690 7 0x10000 ∷ drive 13690 0 0x06a00 ∷ drive 13690 7 0x0000e ∷ drive 13780 7 0x0800e ∷ drive 13780 0 0x02a00 ∷ drive 13780 7 0x00000 ∷ drive 13780 0 0x00000 ∷ drive 14980 6 0x00240 ∷ drive 17380 6 0x00640 ∷ drive 18580 6 0x10741 ∷ drive 18670 6 0x10541 ∷ drive 19070 0 0x00200 ∷ drive 19160 6 0x10000 ∷ drive 19160 0 0x02a00 ∷ drive 19560 0 0x06a00 ∷ drive 19560 6 0x00080 ∷ drive 19650 6 0x08080 ∷ drive 19650 0 0x02a00 ∷ drive 19650 6 0x00000 ∷ drive 19650 0 0x00a00 ∷ drive 20050 0 0x04a00 ∷ drive 20050 6 0x00103 ∷ drive 20105 6 0x08103 ∷ drive 20105 0 0x00a00 ∷ drive 20105 6 0x00000 ∷ drive 20105 0 0x04a00 ∷ drive 20105 6 0x00100 ∷ drive 20160 6 0x08100 ∷ drive 20160 0 0x00a00 ∷ drive 20160 6 0x00000 ∷ drive 20160 0 0x04a00 ∷ drive 20160 6 0x00100 ∷ drive 20215 6 0x08100 ∷ drive 20215 0 0x00a00 ∷ drive 20215 6 0x00000 ∷ drive 20215 0 0x04a00 ∷ drive 20215 6 0x00100 ∷ drive 20270 6 0x08100 ∷ drive 20270 0 0x00a00 ∷ drive 20270 6 0x00000 ∷ drive 20270 0 0x04a00 ∷ drive 20270 6 0x00112 ∷ drive 20325 6 0x08112 ∷ drive 20325 0 0x00a00 ∷ drive 20325 6 0x00000 ∷ drive 20325 0 0x04a00 ∷ drive 20325 6 0x00100 ∷ drive 20380 6 0x08100 ∷ drive 20380 0 0x00a00 ∷ drive 20380 6 0x00000 ∷ drive 20380 0 0x01200 ∷ drive 21180 0 0x01270 ∷ drive 21235 0 0x05270 ∷ drive 21235 6 0x08000 ∷ drive 21235 0 0x01300 ∷ drive 21235 6 0x00000 ∷ drive 21290 0 0x05300 ∷ drive 21290 6 0x08000 ∷ drive 21290 0 0x01305 ∷ drive 21290 6 0x00000 ∷ drive 21345 0 0x05305 ∷ drive 21345 6 0x08000 ∷ drive 21345 0 0x01300 ∷ drive 21345 6 0x00000 ∷ drive 21400 0 0x05300 ∷ drive 21400 6 0x08000 ∷ drive 21400 0 0x01300 ∷ drive 21400 6 0x00000 ∷ drive 21455 0 0x05300 ∷ drive 21455 6 0x08000 ∷ drive 21455 0 0x01300 ∷ drive 21455 6 0x00000 ∷ drive 21510 0 0x05300 ∷ drive 21510 6 0x08000 ∷ drive 21510 0 0x01300 ∷ drive 21510 6 0x00000 ∷ drive 21565 0 0x05300 ∷ drive 21565 6 0x08000 ∷ drive 21565 0 0x0130a ∷ drive 21565 6 0x00000 ∷ drive 21620 0 0x0530a ∷ drive 21620 6 0x08000 ∷ drive 21620 0 0x01300 ∷ drive 21620 6 0x00000 ∷ drive 21675 0 0x05300 ∷ drive 21675 6 0x08000 ∷ drive 21675 0 0x01300 ∷ drive 21675 6 0x00000 ∷ drive 21730 0 0x05300 ∷ drive 21730 6 0x08000 ∷ drive 21730 0 0x01300 ∷ drive 21730 6 0x00000 ∷ drive 21785 0 0x05300 ∷ drive 21785 6 0x08000 ∷ drive 21785 0 0x01300 ∷ drive 21785 6 0x00000 ∷ drive 21840 0 0x05300 ∷ drive 21840 6 0x08000 ∷ drive 21840 0 0x01321 ∷ drive 21840 6 0x00000 ∷ drive 21895 0 0x05321 ∷ drive 21895 6 0x08000 ∷ drive 21895 0 0x01300 ∷ drive 21895 6 0x00000 ∷ drive 21950 0 0x05300 ∷ drive 21950 6 0x08000 ∷ drive 21950 0 0x01300 ∷ drive 21950 6 0x00000 ∷ drive 22005 0 0x05300 ∷ drive 22005 6 0x08000 ∷ drive 22005 0 0x01300 ∷ drive 22005 6 0x00000 ∷ drive 22060 0 0x05300 ∷ drive 22060 6 0x08000 ∷ drive 22060 0 0x01300 ∷ drive 22060 6 0x00000 ∷ drive 22115 0 0x05300 ∷ drive 22115 6 0x08000 ∷ drive 22115 0 0x01300 ∷ drive 22115 6 0x00000 ∷ drive 22170 0 0x05300 ∷ drive 22170 6 0x08000 ∷ drive 22170 0 0x01200 ∷ drive 22170 6 0x00000 ∷ drive 22170 0 0x01b00 ∷ drive 22570 0 0x05b00 ∷ drive 22570 6 0x08000 ∷ drive 22570 0 0x01a00 ∷ drive 22570 6 0x00000 ∷ drive 22570 0 0x03b00 ∷ drive 22970 0 0x07b00 ∷ drive 22970 6 0x08000 ∷ drive 22970 0 0x03a00 ∷ drive 22970 6 0x00000 ∷ drive 22970 0 0x00000 ∷ []

abbrev sense_of_another_and_queue_guard_events : List Event
sense_of_another_and_queue_guard_events = events.Accept (command 1) ∷ events.Run (command 1) ∷ events.End (command 1) 2 ∷ events.Aborted 7 0 0 aborts.WholeQueue ∷ events.Accept (sense 1) ∷ events.Run (sense 1) ∷ events.End (sense 1) 0 ∷ []

abbrev pub sense_of_another_and_queue_guard_shown : Shows
sense_of_another_and_queue_guard_shown = record { rows = reverse sense_of_another_and_queue_guard_rows; history = reverse sense_of_another_and_queue_guard_events; ended = true }

sense_of_another_and_queue_guard_run : shown (run_by_due sense_of_another_and_queue_guard 204) ≡ sense_of_another_and_queue_guard_shown
unfolding need_of sent_of ones union_below line_of form_out form_in least run_from
sense_of_another_and_queue_guard_run = refl
