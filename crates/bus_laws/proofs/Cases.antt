-- Runs with few connections: their rows are prompt, lawful and sound, computed. Written by tools/makers/law_case.py.
use Rattle.due_model.specs.bus_trace.specs.LineSet.{set_of, line_of}
use Rattle.due_model.specs.bus_trace.specs.View.{union_below}
use Rattle.due_model.specs.bus_trace.specs.declared.Row.{Row}
use Rattle.due_model.specs.bus_trace.specs.declared.Kind.TheVariants.{Drives, Fault}
use Rattle.due_model.specs.msg_grammar.specs.Messages.{form_out, form_in}
use Rattle.due_model.specs.bus_rules.specs.declared.verdict.Verdict.{Verdict}
use Rattle.due_model.specs.bus_rules.specs.declared.verdict.Verdict.TheVariants.{Lawful}
use Rattle.due_model.specs.bus_rules.specs.Seen.{seen_with}
use Rattle.due_model.specs.bus_rules.specs.Rules.{judged}
use Rattle.due_model.specs.Next.{least}
use Rattle.due_model.specs.Run.{run_from, run_by_due}
use Rattle.due_model.specs.Sound.{sound}
use Rattle.std.proofs.Common.{ℕ, ◌≡◌, Bool, true, false, List, [], ◌∷◌, reverse, refl}
use Rattle.std.specs.Prelude.{Option, Some, None}
use lib.Count.{ones}
use Rattle.due_model.specs.bus_base.specs.declared.ProcId.{ProcId}
use Rattle.due_model.specs.bus_base.specs.declared.AbortKind.TheVariants as aborts
use Rattle.due_model.specs.bus_base.specs.declared.Event.{Event}
use Rattle.due_model.specs.bus_base.specs.declared.Event.TheVariants as events
use Rattle.due_model.specs.bus_base.specs.declared.events.Pick.TheVariants as picks
use Rattle.due_model.specs.scenario.specs.declared.value.FillDef.{FillDef}
use Rattle.due_model.specs.scenario.specs.declared.value.UnitDef.{UnitDef}
use Rattle.due_model.specs.scenario.specs.declared.value.Policy.TheVariants as policies
use Rattle.due_model.specs.scenario.specs.declared.value.Load.TheVariants as loads
use Rattle.due_model.specs.scenario.specs.declared.value.Tag.TheVariants as tags
use Rattle.due_model.specs.scenario.specs.declared.value.Payload.TheVariants as payloads
use Rattle.due_model.specs.scenario.specs.Value.{ScenarioValue}
use Rattle.due_model.specs.scenario.specs.Needs.{need_of, sent_of}
use Rattle.due_model.specs.array_model.specs.Contents.{Contents, starting_contents, printed_blocks}
use Rattle.due_model.specs.array_model.specs.Execution.{Reply, good, check_condition, queue_full, sense_of}
use Rattle.due_model.specs.array_model.specs.ArrayHistory.{array_after, disks_of, reply_of}

abbrev drive : ℕ → ℕ → ℕ → Row
drive time dev lines = record { time = time; dev = dev; kind = Drives (set_of lines) }

abbrev strike : ℕ → ℕ → ℕ → Row
strike time dev bit = record { time = time; dev = dev; kind = Fault bit }

-- What is computed of a run.
record Shows : Type 0 where
  rows : List Row
  verdict : Verdict
  soundly : Bool

abbrev shown : ScenarioValue → ℕ → Shows
shown s fuel = record { rows = (run_by_due s fuel).rows; verdict = judged (run_by_due s fuel).rows; soundly = sound s (run_by_due s fuel).rows }

-- ---- ids_struck_in_both_directions_law

abbrev ids_struck_in_both_directions_law : ScenarioValue
ids_struck_in_both_directions_law = record {
  version = 1;
  hosts = record { dev = 7; latency = 20; most = 1; retries = 2; period = 0; offset = 0; lag = 0; offers = true } ∷ [];
  targets = record { dev = 2; latency = 80; retries = 2; disc = policies.Command; pick = picks.First; seek = 5000; period = 0; offset = 0; begins = false } ∷ [];
  units = record { target = 2; unit = 0; blocks = 1; size = 16; depth = 1 } ∷ [];
  fills = [];
  tapes = [];
  loads = [];
  commands = record { host = 7; target = 2; unit = 0; at = 0; tag = tags.Untagged; cdb = (0 ∷ 0 ∷ 0 ∷ 0 ∷ 0 ∷ 0 ∷ []); payload = payloads.Nothing } ∷ [];
  aborts = [];
  resets = [];
  faults = record { at = 5000; bit = 3 } ∷ record { at = 250220000; bit = 8 } ∷ record { at = 250230000; bit = 0 } ∷ [];
}

abbrev pub ids_struck_in_both_directions_law_rows : List Row
ids_struck_in_both_directions_law_rows = drive 1220 7 0x00280 ∷ drive 3640 7 0x00680 ∷ drive 4860 7 0x10784 ∷ drive 4970 7 0x10584 ∷ strike 5450 2 3 ∷ drive 250004990 7 0x10400 ∷ drive 250205100 7 0x00000 ∷ drive 250206320 7 0x00280 ∷ drive 250208740 7 0x00680 ∷ drive 250209960 7 0x10784 ∷ drive 250210070 7 0x10584 ∷ drive 250210550 2 0x00200 ∷ drive 250210660 7 0x10000 ∷ drive 250210740 2 0x02a00 ∷ drive 250211220 2 0x06a00 ∷ drive 250211240 7 0x001c0 ∷ drive 250211350 7 0x081c0 ∷ drive 250211430 2 0x02a00 ∷ drive 250211450 7 0x00000 ∷ drive 250211530 2 0x00a00 ∷ drive 250212010 2 0x04a00 ∷ drive 250212030 7 0x00100 ∷ drive 250212105 7 0x08100 ∷ drive 250212185 2 0x00a00 ∷ drive 250212205 7 0x00000 ∷ drive 250212285 2 0x04a00 ∷ drive 250212305 7 0x00100 ∷ drive 250212380 7 0x08100 ∷ drive 250212460 2 0x00a00 ∷ drive 250212480 7 0x00000 ∷ drive 250212560 2 0x04a00 ∷ drive 250212580 7 0x00100 ∷ drive 250212655 7 0x08100 ∷ drive 250212735 2 0x00a00 ∷ drive 250212755 7 0x00000 ∷ drive 250212835 2 0x04a00 ∷ drive 250212855 7 0x00100 ∷ drive 250212930 7 0x08100 ∷ drive 250213010 2 0x00a00 ∷ drive 250213030 7 0x00000 ∷ drive 250213110 2 0x04a00 ∷ drive 250213130 7 0x00100 ∷ drive 250213205 7 0x08100 ∷ drive 250213285 2 0x00a00 ∷ drive 250213305 7 0x00000 ∷ drive 250213385 2 0x04a00 ∷ drive 250213405 7 0x00100 ∷ drive 250213480 7 0x08100 ∷ drive 250213560 2 0x00a00 ∷ drive 250213580 7 0x00000 ∷ drive 250213660 2 0x03a00 ∷ drive 250214540 2 0x03a04 ∷ drive 250214675 2 0x07a04 ∷ drive 250214695 7 0x08000 ∷ drive 250214775 2 0x03a00 ∷ drive 250214795 7 0x00000 ∷ drive 250214875 2 0x00000 ∷ drive 250218740 2 0x00204 ∷ drive 250221220 2 0x00604 ∷ drive 250222500 2 0x01784 ∷ drive 250222670 2 0x01584 ∷ strike 250223090 7 8 ∷ drive 500222750 2 0x01400 ∷ drive 500422920 2 0x00000 ∷ drive 500424200 2 0x00204 ∷ drive 500426680 2 0x00604 ∷ drive 500427960 2 0x01784 ∷ drive 500428130 2 0x01584 ∷ strike 500428550 7 0 ∷ drive 750428210 2 0x01400 ∷ drive 750628380 2 0x00000 ∷ drive 750629660 2 0x00204 ∷ drive 750632140 2 0x00604 ∷ drive 750633420 2 0x01784 ∷ drive 750633590 2 0x01584 ∷ drive 750634010 7 0x00200 ∷ drive 750634090 2 0x01784 ∷ drive 750634260 2 0x03a80 ∷ drive 750634280 7 0x00000 ∷ drive 750634740 2 0x07a80 ∷ drive 750634760 7 0x08000 ∷ drive 750634840 2 0x03a00 ∷ drive 750634860 7 0x00000 ∷ drive 750634940 2 0x01b00 ∷ drive 750635420 2 0x05b00 ∷ drive 750635440 7 0x08000 ∷ drive 750635520 2 0x01a00 ∷ drive 750635540 7 0x00000 ∷ drive 750635620 2 0x03b00 ∷ drive 750636100 2 0x07b00 ∷ drive 750636120 7 0x08000 ∷ drive 750636200 2 0x03a00 ∷ drive 750636220 7 0x00000 ∷ drive 750636300 2 0x00000 ∷ []

ids_struck_in_both_directions_law_shows : shown ids_struck_in_both_directions_law 95 ≡ record { rows = reverse ids_struck_in_both_directions_law_rows; verdict = Lawful; soundly = true }
unfolding need_of sent_of ones union_below line_of form_out form_in least run_from seen_with
ids_struck_in_both_directions_law_shows = refl

-- ---- resets_before_a_connection_law

abbrev resets_before_a_connection_law : ScenarioValue
resets_before_a_connection_law = record {
  version = 1;
  hosts = record { dev = 7; latency = 60; most = 1; retries = 1; period = 0; offset = 0; lag = 0; offers = true } ∷ record { dev = 6; latency = 3; most = 1; retries = 1; period = 0; offset = 0; lag = 0; offers = true } ∷ [];
  targets = record { dev = 0; latency = 100; retries = 1; disc = policies.Never; pick = picks.First; seek = 0; period = 0; offset = 0; begins = false } ∷ [];
  units = record { target = 0; unit = 0; blocks = 1; size = 16; depth = 1 } ∷ [];
  fills = [];
  tapes = [];
  loads = [];
  commands = record { host = 7; target = 3; unit = 0; at = 0; tag = tags.Untagged; cdb = (0 ∷ 0 ∷ 0 ∷ 0 ∷ 0 ∷ 0 ∷ []); payload = payloads.Nothing } ∷ record { host = 6; target = 0; unit = 0; at = 0; tag = tags.Untagged; cdb = (0 ∷ 0 ∷ 0 ∷ 0 ∷ 0 ∷ 0 ∷ []); payload = payloads.Nothing } ∷ [];
  aborts = [];
  resets = record { dev = 0; at = 1230 } ∷ record { dev = 7; at = 1240 } ∷ record { dev = 6; at = 29000 } ∷ record { dev = 0; at = 54100 } ∷ record { dev = 7; at = 60000 } ∷ [];
  faults = [];
}

abbrev pub resets_before_a_connection_law_rows : List Row
resets_before_a_connection_law_rows = drive 1203 6 0x00240 ∷ drive 1230 0 0x20000 ∷ drive 1233 6 0x00000 ∷ drive 1240 7 0x20000 ∷ drive 26300 7 0x00000 ∷ drive 26330 0 0x00000 ∷ drive 27533 6 0x00240 ∷ drive 27590 7 0x00280 ∷ drive 29000 6 0x20000 ∷ drive 29060 7 0x00000 ∷ drive 54003 6 0x00000 ∷ drive 54100 0 0x20000 ∷ drive 60000 7 0x20000 ∷ drive 79200 0 0x00000 ∷ drive 85060 7 0x00000 ∷ drive 86263 6 0x00240 ∷ drive 86320 7 0x00280 ∷ drive 88780 7 0x00680 ∷ drive 88783 6 0x00000 ∷ drive 90040 7 0x10788 ∷ drive 90190 7 0x10588 ∷ drive 250090250 7 0x10400 ∷ drive 250290400 7 0x00000 ∷ drive 250291603 6 0x00240 ∷ drive 250291660 7 0x00280 ∷ drive 250294120 7 0x00680 ∷ drive 250294123 6 0x00000 ∷ drive 250295380 7 0x10788 ∷ drive 250295530 7 0x10588 ∷ drive 500295590 7 0x10400 ∷ drive 500495740 7 0x00000 ∷ drive 500496943 6 0x00240 ∷ drive 500499346 6 0x00640 ∷ drive 500500549 6 0x10741 ∷ drive 500500642 6 0x10541 ∷ drive 500501142 0 0x00200 ∷ drive 500501235 6 0x10000 ∷ drive 500501335 0 0x02a00 ∷ drive 500501835 0 0x06a00 ∷ drive 500501838 6 0x001c0 ∷ drive 500501931 6 0x081c0 ∷ drive 500502031 0 0x02a00 ∷ drive 500502034 6 0x00000 ∷ drive 500502134 0 0x00a00 ∷ drive 500502634 0 0x04a00 ∷ drive 500502637 6 0x00100 ∷ drive 500502695 6 0x08100 ∷ drive 500502795 0 0x00a00 ∷ drive 500502798 6 0x00000 ∷ drive 500502898 0 0x04a00 ∷ drive 500502901 6 0x00100 ∷ drive 500502959 6 0x08100 ∷ drive 500503059 0 0x00a00 ∷ drive 500503062 6 0x00000 ∷ drive 500503162 0 0x04a00 ∷ drive 500503165 6 0x00100 ∷ drive 500503223 6 0x08100 ∷ drive 500503323 0 0x00a00 ∷ drive 500503326 6 0x00000 ∷ drive 500503426 0 0x04a00 ∷ drive 500503429 6 0x00100 ∷ drive 500503487 6 0x08100 ∷ drive 500503587 0 0x00a00 ∷ drive 500503590 6 0x00000 ∷ drive 500503690 0 0x04a00 ∷ drive 500503693 6 0x00100 ∷ drive 500503751 6 0x08100 ∷ drive 500503851 0 0x00a00 ∷ drive 500503854 6 0x00000 ∷ drive 500503954 0 0x04a00 ∷ drive 500503957 6 0x00100 ∷ drive 500504015 6 0x08100 ∷ drive 500504115 0 0x00a00 ∷ drive 500504118 6 0x00000 ∷ drive 500504218 0 0x01a00 ∷ drive 500505118 0 0x01a02 ∷ drive 500505273 0 0x05a02 ∷ drive 500505276 6 0x08000 ∷ drive 500505376 0 0x01a00 ∷ drive 500505379 6 0x00000 ∷ drive 500505479 0 0x03b00 ∷ drive 500505979 0 0x07b00 ∷ drive 500505982 6 0x08000 ∷ drive 500506082 0 0x03a00 ∷ drive 500506085 6 0x00000 ∷ drive 500506185 0 0x00000 ∷ drive 500507388 6 0x00240 ∷ drive 500509791 6 0x00640 ∷ drive 500510994 6 0x10741 ∷ drive 500511087 6 0x10541 ∷ drive 500511587 0 0x00200 ∷ drive 500511680 6 0x10000 ∷ drive 500511780 0 0x02a00 ∷ drive 500512280 0 0x06a00 ∷ drive 500512283 6 0x00080 ∷ drive 500512376 6 0x08080 ∷ drive 500512476 0 0x02a00 ∷ drive 500512479 6 0x00000 ∷ drive 500512579 0 0x00a00 ∷ drive 500513079 0 0x04a00 ∷ drive 500513082 6 0x00103 ∷ drive 500513140 6 0x08103 ∷ drive 500513240 0 0x00a00 ∷ drive 500513243 6 0x00000 ∷ drive 500513343 0 0x04a00 ∷ drive 500513346 6 0x00100 ∷ drive 500513404 6 0x08100 ∷ drive 500513504 0 0x00a00 ∷ drive 500513507 6 0x00000 ∷ drive 500513607 0 0x04a00 ∷ drive 500513610 6 0x00100 ∷ drive 500513668 6 0x08100 ∷ drive 500513768 0 0x00a00 ∷ drive 500513771 6 0x00000 ∷ drive 500513871 0 0x04a00 ∷ drive 500513874 6 0x00100 ∷ drive 500513932 6 0x08100 ∷ drive 500514032 0 0x00a00 ∷ drive 500514035 6 0x00000 ∷ drive 500514135 0 0x04a00 ∷ drive 500514138 6 0x00112 ∷ drive 500514196 6 0x08112 ∷ drive 500514296 0 0x00a00 ∷ drive 500514299 6 0x00000 ∷ drive 500514399 0 0x04a00 ∷ drive 500514402 6 0x00100 ∷ drive 500514460 6 0x08100 ∷ drive 500514560 0 0x00a00 ∷ drive 500514563 6 0x00000 ∷ drive 500514663 0 0x01200 ∷ drive 500515563 0 0x01270 ∷ drive 500515718 0 0x05270 ∷ drive 500515721 6 0x08000 ∷ drive 500515821 0 0x01300 ∷ drive 500515824 6 0x00000 ∷ drive 500515976 0 0x05300 ∷ drive 500515979 6 0x08000 ∷ drive 500516079 0 0x01306 ∷ drive 500516082 6 0x00000 ∷ drive 500516234 0 0x05306 ∷ drive 500516237 6 0x08000 ∷ drive 500516337 0 0x01300 ∷ drive 500516340 6 0x00000 ∷ drive 500516492 0 0x05300 ∷ drive 500516495 6 0x08000 ∷ drive 500516595 0 0x01300 ∷ drive 500516598 6 0x00000 ∷ drive 500516750 0 0x05300 ∷ drive 500516753 6 0x08000 ∷ drive 500516853 0 0x01300 ∷ drive 500516856 6 0x00000 ∷ drive 500517008 0 0x05300 ∷ drive 500517011 6 0x08000 ∷ drive 500517111 0 0x01300 ∷ drive 500517114 6 0x00000 ∷ drive 500517266 0 0x05300 ∷ drive 500517269 6 0x08000 ∷ drive 500517369 0 0x0130a ∷ drive 500517372 6 0x00000 ∷ drive 500517524 0 0x0530a ∷ drive 500517527 6 0x08000 ∷ drive 500517627 0 0x01300 ∷ drive 500517630 6 0x00000 ∷ drive 500517782 0 0x05300 ∷ drive 500517785 6 0x08000 ∷ drive 500517885 0 0x01300 ∷ drive 500517888 6 0x00000 ∷ drive 500518040 0 0x05300 ∷ drive 500518043 6 0x08000 ∷ drive 500518143 0 0x01300 ∷ drive 500518146 6 0x00000 ∷ drive 500518298 0 0x05300 ∷ drive 500518301 6 0x08000 ∷ drive 500518401 0 0x01300 ∷ drive 500518404 6 0x00000 ∷ drive 500518556 0 0x05300 ∷ drive 500518559 6 0x08000 ∷ drive 500518659 0 0x01229 ∷ drive 500518662 6 0x00000 ∷ drive 500518814 0 0x05229 ∷ drive 500518817 6 0x08000 ∷ drive 500518917 0 0x01300 ∷ drive 500518920 6 0x00000 ∷ drive 500519072 0 0x05300 ∷ drive 500519075 6 0x08000 ∷ drive 500519175 0 0x01300 ∷ drive 500519178 6 0x00000 ∷ drive 500519330 0 0x05300 ∷ drive 500519333 6 0x08000 ∷ drive 500519433 0 0x01300 ∷ drive 500519436 6 0x00000 ∷ drive 500519588 0 0x05300 ∷ drive 500519591 6 0x08000 ∷ drive 500519691 0 0x01300 ∷ drive 500519694 6 0x00000 ∷ drive 500519846 0 0x05300 ∷ drive 500519849 6 0x08000 ∷ drive 500519949 0 0x01300 ∷ drive 500519952 6 0x00000 ∷ drive 500520104 0 0x05300 ∷ drive 500520107 6 0x08000 ∷ drive 500520207 0 0x01200 ∷ drive 500520210 6 0x00000 ∷ drive 500520310 0 0x01b00 ∷ drive 500520810 0 0x05b00 ∷ drive 500520813 6 0x08000 ∷ drive 500520913 0 0x01a00 ∷ drive 500520916 6 0x00000 ∷ drive 500521016 0 0x03b00 ∷ drive 500521516 0 0x07b00 ∷ drive 500521519 6 0x08000 ∷ drive 500521619 0 0x03a00 ∷ drive 500521622 6 0x00000 ∷ drive 500521722 0 0x00000 ∷ []

resets_before_a_connection_law_shows : shown resets_before_a_connection_law 215 ≡ record { rows = reverse resets_before_a_connection_law_rows; verdict = Lawful; soundly = true }
unfolding need_of sent_of ones union_below line_of form_out form_in least run_from seen_with
resets_before_a_connection_law_shows = refl

-- ---- seven_contenders_law

abbrev seven_contenders_law : ScenarioValue
seven_contenders_law = record {
  version = 1;
  hosts = record { dev = 7; latency = 100; most = 1; retries = 0; period = 0; offset = 0; lag = 0; offers = true } ∷ record { dev = 6; latency = 0; most = 1; retries = 0; period = 0; offset = 0; lag = 0; offers = true } ∷ record { dev = 5; latency = 37; most = 1; retries = 0; period = 0; offset = 0; lag = 0; offers = true } ∷ record { dev = 4; latency = 99; most = 1; retries = 0; period = 0; offset = 0; lag = 0; offers = true } ∷ record { dev = 3; latency = 1; most = 1; retries = 0; period = 0; offset = 0; lag = 0; offers = true } ∷ record { dev = 2; latency = 50; most = 1; retries = 0; period = 0; offset = 0; lag = 0; offers = true } ∷ record { dev = 1; latency = 64; most = 1; retries = 0; period = 0; offset = 0; lag = 0; offers = true } ∷ [];
  targets = [];
  units = [];
  fills = [];
  tapes = [];
  loads = [];
  commands = record { host = 7; target = 0; unit = 0; at = 2990; tag = tags.Untagged; cdb = (0 ∷ 0 ∷ 0 ∷ 0 ∷ 0 ∷ 0 ∷ []); payload = payloads.Nothing } ∷ record { host = 6; target = 0; unit = 0; at = 1200; tag = tags.Untagged; cdb = (0 ∷ 0 ∷ 0 ∷ 0 ∷ 0 ∷ 0 ∷ []); payload = payloads.Nothing } ∷ record { host = 5; target = 0; unit = 0; at = 0; tag = tags.Untagged; cdb = (0 ∷ 0 ∷ 0 ∷ 0 ∷ 0 ∷ 0 ∷ []); payload = payloads.Nothing } ∷ record { host = 4; target = 0; unit = 0; at = 2900; tag = tags.Untagged; cdb = (0 ∷ 0 ∷ 0 ∷ 0 ∷ 0 ∷ 0 ∷ []); payload = payloads.Nothing } ∷ record { host = 3; target = 0; unit = 0; at = 2999; tag = tags.Untagged; cdb = (0 ∷ 0 ∷ 0 ∷ 0 ∷ 0 ∷ 0 ∷ []); payload = payloads.Nothing } ∷ record { host = 2; target = 0; unit = 0; at = 3001; tag = tags.Untagged; cdb = (0 ∷ 0 ∷ 0 ∷ 0 ∷ 0 ∷ 0 ∷ []); payload = payloads.Nothing } ∷ record { host = 1; target = 0; unit = 0; at = 1500; tag = tags.Untagged; cdb = (0 ∷ 0 ∷ 0 ∷ 0 ∷ 0 ∷ 0 ∷ []); payload = payloads.Nothing } ∷ [];
  aborts = [];
  resets = [];
  faults = [];
}

abbrev pub seven_contenders_law_rows : List Row
seven_contenders_law_rows = drive 1200 6 0x00240 ∷ drive 1237 5 0x00220 ∷ drive 1564 1 0x00202 ∷ drive 2999 4 0x00210 ∷ drive 3000 3 0x00208 ∷ drive 3600 6 0x00640 ∷ drive 3601 3 0x00000 ∷ drive 3637 5 0x00000 ∷ drive 3664 1 0x00000 ∷ drive 3699 4 0x00000 ∷ drive 4800 6 0x10741 ∷ drive 4890 6 0x10541 ∷ drive 250004890 6 0x10400 ∷ drive 250204980 6 0x00000 ∷ drive 250206181 3 0x00208 ∷ drive 250206217 5 0x00220 ∷ drive 250206230 2 0x00204 ∷ drive 250206244 1 0x00202 ∷ drive 250206279 4 0x00210 ∷ drive 250206280 7 0x00280 ∷ drive 250208780 7 0x00680 ∷ drive 250208781 3 0x00000 ∷ drive 250208817 5 0x00000 ∷ drive 250208830 2 0x00000 ∷ drive 250208844 1 0x00000 ∷ drive 250208879 4 0x00000 ∷ drive 250210080 7 0x10781 ∷ drive 250210270 7 0x10581 ∷ drive 500210370 7 0x10400 ∷ drive 500410560 7 0x00000 ∷ drive 500411761 3 0x00208 ∷ drive 500411797 5 0x00220 ∷ drive 500411810 2 0x00204 ∷ drive 500411824 1 0x00202 ∷ drive 500411859 4 0x00210 ∷ drive 500414234 5 0x00620 ∷ drive 500414235 3 0x00000 ∷ drive 500414284 2 0x00000 ∷ drive 500414298 1 0x00000 ∷ drive 500414333 4 0x00000 ∷ drive 500415471 5 0x10721 ∷ drive 500415598 5 0x10521 ∷ drive 750415635 5 0x10400 ∷ drive 750615762 5 0x00000 ∷ drive 750616963 3 0x00208 ∷ drive 750617012 2 0x00204 ∷ drive 750617026 1 0x00202 ∷ drive 750617061 4 0x00210 ∷ drive 750619560 4 0x00610 ∷ drive 750619561 3 0x00000 ∷ drive 750619610 2 0x00000 ∷ drive 750619624 1 0x00000 ∷ drive 750620859 4 0x10711 ∷ drive 750621048 4 0x10511 ∷ drive 1000621147 4 0x10400 ∷ drive 1000821336 4 0x00000 ∷ drive 1000822537 3 0x00208 ∷ drive 1000822586 2 0x00204 ∷ drive 1000822600 1 0x00202 ∷ drive 1000824938 3 0x00608 ∷ drive 1000824988 2 0x00000 ∷ drive 1000825002 1 0x00000 ∷ drive 1000826139 3 0x10709 ∷ drive 1000826230 3 0x10509 ∷ drive 1250826231 3 0x10400 ∷ drive 1251026322 3 0x00000 ∷ drive 1251027572 2 0x00204 ∷ drive 1251027586 1 0x00202 ∷ drive 1251030022 2 0x00604 ∷ drive 1251030086 1 0x00000 ∷ drive 1251031272 2 0x10705 ∷ drive 1251031412 2 0x10505 ∷ drive 1501031462 2 0x10400 ∷ drive 1501231602 2 0x00000 ∷ drive 1501232866 1 0x00202 ∷ drive 1501235330 1 0x00602 ∷ drive 1501236594 1 0x10703 ∷ drive 1501236748 1 0x10503 ∷ drive 1751236812 1 0x10400 ∷ drive 1751436966 1 0x00000 ∷ []

seven_contenders_law_shows : shown seven_contenders_law 81 ≡ record { rows = reverse seven_contenders_law_rows; verdict = Lawful; soundly = true }
unfolding need_of sent_of ones union_below line_of form_out form_in least run_from seen_with
seven_contenders_law_shows = refl
