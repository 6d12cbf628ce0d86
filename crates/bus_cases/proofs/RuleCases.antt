-- Small traces and their verdicts, computed: for each rule one that breaks it and nothing else before, and
-- beside it one that keeps it by a nanosecond or a line. Written by tools/makers/rule_cases.py from
-- tools/rule_cases.txt, whose verdicts come from an independent judge.
use Rattle.std.proofs.Common.{ℕ, ◌≡◌, [], ◌∷◌, reverse, refl}
use lib.Count.{ones}
use Rattle.due_model.specs.bus_trace.specs.LineSet.{set_of, line_of}
use Rattle.due_model.specs.bus_trace.specs.View.{union_below}
use Rattle.due_model.specs.bus_trace.specs.declared.Row.{Row}
use Rattle.due_model.specs.bus_trace.specs.declared.Kind.TheVariants.{Drives, Fault}
use Rattle.due_model.specs.msg_grammar.specs.Messages.{form_out, form_in}
use Rattle.due_model.specs.bus_rules.specs.Seen.{seen_with}
use Rattle.due_model.specs.bus_rules.specs.Rules.{judged_whole}
use Rattle.due_model.specs.bus_rules.specs.declared.verdict.Verdict.TheVariants.{Lawful, Broken}

abbrev drive : ℕ → ℕ → ℕ → Row
drive time dev lines = record { time = time; dev = dev; kind = Drives (set_of lines) }

abbrev strike : ℕ → ℕ → ℕ → Row
strike time dev bit = record { time = time; dev = dev; kind = Fault bit }

earlier_row : judged_whole (reverse (drive 1200 7 0x00280 ∷ drive 1199 6 0x00240 ∷ [])) 1200 ≡ Broken 2 1
unfolding union_below seen_with line_of ones form_out form_in
earlier_row = refl

same_time : judged_whole (reverse (drive 1200 7 0x00280 ∷ drive 1200 6 0x00240 ∷ [])) 1200 ≡ Lawful
unfolding union_below seen_with line_of ones form_out form_in
same_time = refl

earlier_end : judged_whole (reverse (drive 1200 7 0x00280 ∷ [])) 1199 ≡ Broken 2 1
unfolding union_below seen_with line_of ones form_out form_in
earlier_end = refl

earlier_row_in_reset : judged_whole (reverse (drive 1200 7 0x00280 ∷ drive 2000 3 0x20000 ∷ drive 1999 7 0x00000 ∷ [])) 1999 ≡ Broken 3 1
unfolding union_below seen_with line_of ones form_out form_in
earlier_row_in_reset = refl

nothing_new : judged_whole (reverse (drive 1200 7 0x00280 ∷ drive 1300 7 0x00280 ∷ [])) 1300 ≡ Broken 2 2
unfolding union_below seen_with line_of ones form_out form_in
nothing_new = refl

ids_struck : judged_whole (reverse (drive 1200 7 0x00280 ∷ drive 3600 7 0x00680 ∷ drive 4800 7 0x10781 ∷ drive 4890 7 0x10581 ∷ strike 5290 0 3 ∷ [])) 5290 ≡ Lawful
unfolding union_below seen_with line_of ones form_out form_in
ids_struck = refl

ids_struck_early : judged_whole (reverse (drive 1200 7 0x00280 ∷ drive 3600 7 0x00680 ∷ drive 4800 7 0x10781 ∷ drive 4890 7 0x10581 ∷ strike 5289 0 3 ∷ [])) 5289 ≡ Broken 5 2
unfolding union_below seen_with line_of ones form_out form_in
ids_struck_early = refl

ids_struck_twice : judged_whole (reverse (drive 1200 7 0x00280 ∷ drive 3600 7 0x00680 ∷ drive 4800 7 0x10781 ∷ drive 4890 7 0x10581 ∷ strike 5290 0 3 ∷ strike 5300 0 4 ∷ [])) 5300 ≡ Broken 6 2
unfolding union_below seen_with line_of ones form_out form_in
ids_struck_twice = refl

ids_of_another : judged_whole (reverse (drive 1200 7 0x00280 ∷ drive 3600 7 0x00680 ∷ drive 4800 7 0x10781 ∷ drive 4890 7 0x10581 ∷ strike 5290 3 3 ∷ [])) 5290 ≡ Broken 5 2
unfolding union_below seen_with line_of ones form_out form_in
ids_of_another = refl

struck_after_answer : judged_whole (reverse (drive 1200 7 0x00280 ∷ drive 3600 7 0x00680 ∷ drive 4800 7 0x10781 ∷ drive 4890 7 0x10581 ∷ drive 5290 0 0x00200 ∷ strike 5291 0 3 ∷ [])) 5291 ≡ Broken 6 2
unfolding union_below seen_with line_of ones form_out form_in
struck_after_answer = refl

byte_struck : judged_whole (reverse (drive 1200 7 0x00280 ∷ drive 3600 7 0x00680 ∷ drive 4800 7 0x10781 ∷ drive 4890 7 0x10581 ∷ drive 5290 0 0x00200 ∷ drive 5380 7 0x10000 ∷ drive 5380 0 0x02a00 ∷ drive 5780 0 0x06a00 ∷ drive 5780 7 0x001c0 ∷ drive 5870 7 0x081c0 ∷ strike 5870 0 1 ∷ [])) 5870 ≡ Lawful
unfolding union_below seen_with line_of ones form_out form_in
byte_struck = refl

byte_struck_late : judged_whole (reverse (drive 1200 7 0x00280 ∷ drive 3600 7 0x00680 ∷ drive 4800 7 0x10781 ∷ drive 4890 7 0x10581 ∷ drive 5290 0 0x00200 ∷ drive 5380 7 0x10000 ∷ drive 5380 0 0x02a00 ∷ drive 5780 0 0x06a00 ∷ drive 5780 7 0x001c0 ∷ drive 5870 7 0x081c0 ∷ strike 5871 0 1 ∷ [])) 5871 ≡ Broken 11 2
unfolding union_below seen_with line_of ones form_out form_in
byte_struck_late = refl

byte_of_another : judged_whole (reverse (drive 1200 7 0x00280 ∷ drive 3600 7 0x00680 ∷ drive 4800 7 0x10781 ∷ drive 4890 7 0x10581 ∷ drive 5290 0 0x00200 ∷ drive 5380 7 0x10000 ∷ drive 5380 0 0x02a00 ∷ drive 5780 0 0x06a00 ∷ drive 5780 7 0x001c0 ∷ drive 5870 7 0x081c0 ∷ strike 5870 7 1 ∷ [])) 5870 ≡ Broken 11 2
unfolding union_below seen_with line_of ones form_out form_in
byte_of_another = refl

ids_struck_before_the_calling : judged_whole (reverse (drive 1200 7 0x00280 ∷ drive 3600 7 0x00680 ∷ strike 4000 0 3 ∷ [])) 4000 ≡ Broken 3 2
unfolding union_below seen_with line_of ones form_out form_in
ids_struck_before_the_calling = refl

ids_struck_before_the_release : judged_whole (reverse (drive 1200 7 0x00280 ∷ drive 3600 7 0x00680 ∷ drive 4800 7 0x10781 ∷ strike 4889 0 4 ∷ [])) 4889 ≡ Broken 4 2
unfolding union_below seen_with line_of ones form_out form_in
ids_struck_before_the_release = refl

ids_struck_after_a_withdrawal : judged_whole (reverse (drive 1200 7 0x00280 ∷ drive 3600 7 0x00680 ∷ drive 4800 7 0x10781 ∷ drive 4890 7 0x10581 ∷ drive 250004890 7 0x10400 ∷ strike 250005000 0 3 ∷ [])) 250005000 ≡ Broken 6 2
unfolding union_below seen_with line_of ones form_out form_in
ids_struck_after_a_withdrawal = refl

ids_struck_after_an_answer_taken_back : judged_whole (reverse (drive 1200 7 0x00280 ∷ drive 3600 7 0x00680 ∷ drive 4800 7 0x10781 ∷ drive 4890 7 0x10581 ∷ drive 5290 0 0x00200 ∷ drive 5300 0 0x00000 ∷ strike 5700 0 3 ∷ [])) 5700 ≡ Broken 7 2
unfolding union_below seen_with line_of ones form_out form_in
ids_struck_after_an_answer_taken_back = refl

no_byte_struck : judged_whole (reverse (drive 1200 7 0x00280 ∷ drive 3600 7 0x00680 ∷ drive 4800 7 0x10781 ∷ drive 4890 7 0x10581 ∷ drive 5290 0 0x00200 ∷ drive 5380 7 0x10000 ∷ drive 5380 0 0x02a00 ∷ strike 5380 0 1 ∷ [])) 5380 ≡ Broken 8 2
unfolding union_below seen_with line_of ones form_out form_in
no_byte_struck = refl

nothing_new_in_reset : judged_whole (reverse (drive 1200 7 0x00280 ∷ drive 2000 3 0x20000 ∷ drive 2100 7 0x00280 ∷ [])) 2100 ≡ Broken 3 2
unfolding union_below seen_with line_of ones form_out form_in
nothing_new_in_reset = refl

raises_without_bsy : judged_whole (reverse (drive 1200 7 0x00080 ∷ [])) 1200 ≡ Broken 1 3
unfolding union_below seen_with line_of ones form_out form_in
raises_without_bsy = refl

releases_late : judged_whole (reverse (drive 1200 7 0x00280 ∷ drive 1300 3 0x00008 ∷ drive 1400 7 0x00000 ∷ drive 2601 3 0x00000 ∷ [])) 2700 ≡ Broken 4 3
unfolding union_below seen_with line_of ones form_out form_in
releases_late = refl

releases_in_time : judged_whole (reverse (drive 1200 7 0x00280 ∷ drive 1300 3 0x00008 ∷ drive 1400 7 0x00000 ∷ drive 2600 3 0x00000 ∷ [])) 2700 ≡ Lawful
unfolding union_below seen_with line_of ones form_out form_in
releases_in_time = refl

left_at_end : judged_whole (reverse (drive 1200 7 0x00280 ∷ drive 1300 3 0x00008 ∷ drive 1400 7 0x00000 ∷ [])) 2601 ≡ Broken 4 3
unfolding union_below seen_with line_of ones form_out form_in
left_at_end = refl

left_before_end : judged_whole (reverse (drive 1200 7 0x00280 ∷ drive 1300 3 0x00008 ∷ drive 1400 7 0x00000 ∷ [])) 2600 ≡ Lawful
unfolding union_below seen_with line_of ones form_out form_in
left_before_end = refl

enters_early : judged_whole (reverse (drive 1199 7 0x00280 ∷ [])) 1199 ≡ Broken 1 4
unfolding union_below seen_with line_of ones form_out form_in
enters_early = refl

enters_in_time : judged_whole (reverse (drive 1200 7 0x00280 ∷ [])) 1200 ≡ Lawful
unfolding union_below seen_with line_of ones form_out form_in
enters_in_time = refl

enters_late : judged_whole (reverse (drive 1200 7 0x00280 ∷ drive 3001 6 0x00240 ∷ [])) 3001 ≡ Broken 2 4
unfolding union_below seen_with line_of ones form_out form_in
enters_late = refl

enters_last : judged_whole (reverse (drive 1200 7 0x00280 ∷ drive 3000 6 0x00240 ∷ [])) 3000 ≡ Lawful
unfolding union_below seen_with line_of ones form_out form_in
enters_last = refl

enters_with_another_line : judged_whole (reverse (drive 1200 7 0x10280 ∷ [])) 1200 ≡ Broken 1 4
unfolding union_below seen_with line_of ones form_out form_in
enters_with_another_line = refl

enters_with_another_id : judged_whole (reverse (drive 1200 7 0x00240 ∷ [])) 1200 ≡ Broken 1 4
unfolding union_below seen_with line_of ones form_out form_in
enters_with_another_id = refl

enters_while_it_drives : judged_whole (reverse (drive 1200 7 0x00280 ∷ drive 1300 6 0x00040 ∷ drive 1400 6 0x00240 ∷ [])) 1400 ≡ Broken 3 4
unfolding union_below seen_with line_of ones form_out form_in
enters_while_it_drives = refl

enters_again_early : judged_whole (reverse (drive 1200 7 0x00280 ∷ drive 1300 7 0x00000 ∷ drive 2499 7 0x00280 ∷ [])) 2499 ≡ Broken 3 4
unfolding union_below seen_with line_of ones form_out form_in
enters_again_early = refl

enters_again : judged_whole (reverse (drive 1200 7 0x00280 ∷ drive 1300 7 0x00000 ∷ drive 2500 7 0x00280 ∷ [])) 2500 ≡ Lawful
unfolding union_below seen_with line_of ones form_out form_in
enters_again = refl

keeps_its_id : judged_whole (reverse (drive 1200 7 0x00280 ∷ drive 1300 7 0x00080 ∷ [])) 1300 ≡ Broken 2 4
unfolding union_below seen_with line_of ones form_out form_in
keeps_its_id = refl

wins_early : judged_whole (reverse (drive 1200 7 0x00280 ∷ drive 3599 7 0x00680 ∷ [])) 3599 ≡ Broken 2 5
unfolding union_below seen_with line_of ones form_out form_in
wins_early = refl

wins_in_time : judged_whole (reverse (drive 1200 7 0x00280 ∷ drive 3600 7 0x00680 ∷ [])) 3600 ≡ Lawful
unfolding union_below seen_with line_of ones form_out form_in
wins_in_time = refl

wins_by_its_own_entry : judged_whole (reverse (drive 1200 7 0x00280 ∷ drive 3000 6 0x00240 ∷ drive 3600 7 0x00680 ∷ drive 3600 6 0x00000 ∷ [])) 3600 ≡ Lawful
unfolding union_below seen_with line_of ones form_out form_in
wins_by_its_own_entry = refl

wins_before_its_own_entry_is_old : judged_whole (reverse (drive 1200 6 0x00240 ∷ drive 3000 7 0x00280 ∷ drive 5399 7 0x00680 ∷ [])) 5399 ≡ Broken 3 5
unfolding union_below seen_with line_of ones form_out form_in
wins_before_its_own_entry_is_old = refl

wins_without_entry : judged_whole (reverse (drive 1200 7 0x00280 ∷ drive 3600 6 0x00440 ∷ [])) 3600 ≡ Broken 2 5
unfolding union_below seen_with line_of ones form_out form_in
wins_without_entry = refl

loses : judged_whole (reverse (drive 1200 7 0x00280 ∷ drive 1200 6 0x00240 ∷ drive 3600 6 0x00640 ∷ [])) 3600 ≡ Broken 3 6
unfolding union_below seen_with line_of ones form_out form_in
loses = refl

wins : judged_whole (reverse (drive 1200 7 0x00280 ∷ drive 1200 6 0x00240 ∷ drive 3600 7 0x00680 ∷ [])) 3600 ≡ Lawful
unfolding union_below seen_with line_of ones form_out form_in
wins = refl

wins_with_more : judged_whole (reverse (drive 1200 7 0x00280 ∷ drive 3600 7 0x10680 ∷ [])) 3600 ≡ Broken 2 6
unfolding union_below seen_with line_of ones form_out form_in
wins_with_more = refl

loser_late : judged_whole (reverse (drive 1200 7 0x00280 ∷ drive 1200 6 0x00240 ∷ drive 3600 7 0x00680 ∷ drive 4401 6 0x00000 ∷ [])) 4401 ≡ Broken 4 7
unfolding union_below seen_with line_of ones form_out form_in
loser_late = refl

loser_in_time : judged_whole (reverse (drive 1200 7 0x00280 ∷ drive 1200 6 0x00240 ∷ drive 3600 7 0x00680 ∷ drive 4400 6 0x00000 ∷ [])) 4400 ≡ Lawful
unfolding union_below seen_with line_of ones form_out form_in
loser_in_time = refl

loser_at_end : judged_whole (reverse (drive 1200 7 0x00280 ∷ drive 1200 6 0x00240 ∷ drive 3600 7 0x00680 ∷ [])) 4401 ≡ Broken 4 7
unfolding union_below seen_with line_of ones form_out form_in
loser_at_end = refl

loser_raises : judged_whole (reverse (drive 1200 7 0x00280 ∷ drive 1200 6 0x00240 ∷ drive 3600 7 0x00680 ∷ drive 3700 6 0x10240 ∷ [])) 3700 ≡ Broken 4 7
unfolding union_below seen_with line_of ones form_out form_in
loser_raises = refl

loser_0_late : judged_whole (reverse (drive 1200 7 0x00280 ∷ drive 1200 0 0x00201 ∷ drive 3600 7 0x00680 ∷ drive 4401 0 0x00000 ∷ [])) 4401 ≡ Broken 4 7
unfolding union_below seen_with line_of ones form_out form_in
loser_0_late = refl

loser_1_late : judged_whole (reverse (drive 1200 7 0x00280 ∷ drive 1200 1 0x00202 ∷ drive 3600 7 0x00680 ∷ drive 4401 1 0x00000 ∷ [])) 4401 ≡ Broken 4 7
unfolding union_below seen_with line_of ones form_out form_in
loser_1_late = refl

loser_2_late : judged_whole (reverse (drive 1200 7 0x00280 ∷ drive 1200 2 0x00204 ∷ drive 3600 7 0x00680 ∷ drive 4401 2 0x00000 ∷ [])) 4401 ≡ Broken 4 7
unfolding union_below seen_with line_of ones form_out form_in
loser_2_late = refl

loser_3_late : judged_whole (reverse (drive 1200 7 0x00280 ∷ drive 1200 3 0x00208 ∷ drive 3600 7 0x00680 ∷ drive 4401 3 0x00000 ∷ [])) 4401 ≡ Broken 4 7
unfolding union_below seen_with line_of ones form_out form_in
loser_3_late = refl

loser_4_late : judged_whole (reverse (drive 1200 7 0x00280 ∷ drive 1200 4 0x00210 ∷ drive 3600 7 0x00680 ∷ drive 4401 4 0x00000 ∷ [])) 4401 ≡ Broken 4 7
unfolding union_below seen_with line_of ones form_out form_in
loser_4_late = refl

loser_5_late : judged_whole (reverse (drive 1200 7 0x00280 ∷ drive 1200 5 0x00220 ∷ drive 3600 7 0x00680 ∷ drive 4401 5 0x00000 ∷ [])) 4401 ≡ Broken 4 7
unfolding union_below seen_with line_of ones form_out form_in
loser_5_late = refl

device_7_late : judged_whole (reverse (drive 1200 6 0x00240 ∷ drive 1300 7 0x00800 ∷ drive 3600 6 0x00640 ∷ drive 4401 7 0x00000 ∷ [])) 4401 ≡ Broken 4 7
unfolding union_below seen_with line_of ones form_out form_in
device_7_late = refl

third_raises_before_the_answer : judged_whole (reverse (drive 1200 7 0x00280 ∷ drive 3600 7 0x00680 ∷ drive 4800 7 0x10781 ∷ drive 4890 7 0x10581 ∷ drive 5000 3 0x00008 ∷ [])) 5000 ≡ Broken 5 7
unfolding union_below seen_with line_of ones form_out form_in
third_raises_before_the_answer = refl

calls_early : judged_whole (reverse (drive 1200 7 0x00280 ∷ drive 3600 7 0x00680 ∷ drive 4799 7 0x10781 ∷ [])) 4799 ≡ Broken 3 8
unfolding union_below seen_with line_of ones form_out form_in
calls_early = refl

calls_in_time : judged_whole (reverse (drive 1200 7 0x00280 ∷ drive 3600 7 0x00680 ∷ drive 4800 7 0x10781 ∷ [])) 4800 ≡ Lawful
unfolding union_below seen_with line_of ones form_out form_in
calls_in_time = refl

calls_without_parity : judged_whole (reverse (drive 1200 7 0x00280 ∷ drive 3600 7 0x00680 ∷ drive 4800 7 0x10681 ∷ [])) 4800 ≡ Broken 3 9
unfolding union_below seen_with line_of ones form_out form_in
calls_without_parity = refl

calls_nobody : judged_whole (reverse (drive 1200 7 0x00280 ∷ drive 3600 7 0x00680 ∷ drive 4800 7 0x10680 ∷ [])) 4800 ≡ Broken 3 9
unfolding union_below seen_with line_of ones form_out form_in
calls_nobody = refl

calls_itself_alone : judged_whole (reverse (drive 1200 7 0x00280 ∷ drive 3600 7 0x00680 ∷ drive 4800 7 0x10780 ∷ [])) 4800 ≡ Broken 3 9
unfolding union_below seen_with line_of ones form_out form_in
calls_itself_alone = refl

calls_three : judged_whole (reverse (drive 1200 7 0x00280 ∷ drive 3600 7 0x00680 ∷ drive 4800 7 0x10683 ∷ [])) 4800 ≡ Broken 3 9
unfolding union_below seen_with line_of ones form_out form_in
calls_three = refl

calls_with_both : judged_whole (reverse (drive 1200 7 0x00280 ∷ drive 3600 7 0x00680 ∷ drive 4800 7 0x11781 ∷ [])) 4800 ≡ Broken 3 9
unfolding union_below seen_with line_of ones form_out form_in
calls_with_both = refl

calls_with_neither : judged_whole (reverse (drive 1200 7 0x00280 ∷ drive 3600 7 0x00680 ∷ drive 4800 7 0x00781 ∷ [])) 4800 ≡ Broken 3 9
unfolding union_below seen_with line_of ones form_out form_in
calls_with_neither = refl

calls_to_reselect : judged_whole (reverse (drive 1200 7 0x00280 ∷ drive 3600 7 0x00680 ∷ drive 4800 7 0x01781 ∷ [])) 4800 ≡ Lawful
unfolding union_below seen_with line_of ones form_out form_in
calls_to_reselect = refl

calls_with_req : judged_whole (reverse (drive 1200 7 0x00280 ∷ drive 3600 7 0x00680 ∷ drive 4800 7 0x14781 ∷ [])) 4800 ≡ Broken 3 9
unfolding union_below seen_with line_of ones form_out form_in
calls_with_req = refl

releases_bsy_early : judged_whole (reverse (drive 1200 7 0x00280 ∷ drive 3600 7 0x00680 ∷ drive 4800 7 0x10781 ∷ drive 4889 7 0x10581 ∷ [])) 4889 ≡ Broken 4 9
unfolding union_below seen_with line_of ones form_out form_in
releases_bsy_early = refl

releases_bsy_in_time : judged_whole (reverse (drive 1200 7 0x00280 ∷ drive 3600 7 0x00680 ∷ drive 4800 7 0x10781 ∷ drive 4890 7 0x10581 ∷ [])) 4890 ≡ Lawful
unfolding union_below seen_with line_of ones form_out form_in
releases_bsy_in_time = refl

releases_bsy_and_atn : judged_whole (reverse (drive 1200 7 0x00280 ∷ drive 3600 7 0x00680 ∷ drive 4800 7 0x10781 ∷ drive 4890 7 0x00581 ∷ [])) 4890 ≡ Broken 4 9
unfolding union_below seen_with line_of ones form_out form_in
releases_bsy_and_atn = refl

calls_without_bsy : judged_whole (reverse (drive 1200 7 0x00280 ∷ drive 3600 7 0x00680 ∷ drive 4800 7 0x10581 ∷ [])) 4800 ≡ Broken 3 9
unfolding union_below seen_with line_of ones form_out form_in
calls_without_bsy = refl

calls_without_sel : judged_whole (reverse (drive 1200 7 0x00280 ∷ drive 3600 7 0x00680 ∷ drive 4800 7 0x10381 ∷ [])) 4800 ≡ Broken 3 9
unfolding union_below seen_with line_of ones form_out form_in
calls_without_sel = refl

calls_with_cd : judged_whole (reverse (drive 1200 7 0x00280 ∷ drive 3600 7 0x00680 ∷ drive 4800 7 0x10f81 ∷ [])) 4800 ≡ Broken 3 9
unfolding union_below seen_with line_of ones form_out form_in
calls_with_cd = refl

calls_with_msg : judged_whole (reverse (drive 1200 7 0x00280 ∷ drive 3600 7 0x00680 ∷ drive 4800 7 0x12781 ∷ [])) 4800 ≡ Broken 3 9
unfolding union_below seen_with line_of ones form_out form_in
calls_with_msg = refl

calls_with_ack : judged_whole (reverse (drive 1200 7 0x00280 ∷ drive 3600 7 0x00680 ∷ drive 4800 7 0x18781 ∷ [])) 4800 ≡ Broken 3 9
unfolding union_below seen_with line_of ones form_out form_in
calls_with_ack = refl

answers_early : judged_whole (reverse (drive 1200 7 0x00280 ∷ drive 3600 7 0x00680 ∷ drive 4800 7 0x10781 ∷ drive 4890 7 0x10581 ∷ drive 5289 0 0x00200 ∷ [])) 5289 ≡ Broken 5 10
unfolding union_below seen_with line_of ones form_out form_in
answers_early = refl

answers_in_time : judged_whole (reverse (drive 1200 7 0x00280 ∷ drive 3600 7 0x00680 ∷ drive 4800 7 0x10781 ∷ drive 4890 7 0x10581 ∷ drive 5290 0 0x00200 ∷ [])) 5290 ≡ Lawful
unfolding union_below seen_with line_of ones form_out form_in
answers_in_time = refl

answers_with_more : judged_whole (reverse (drive 1200 7 0x00280 ∷ drive 3600 7 0x00680 ∷ drive 4800 7 0x10781 ∷ drive 4890 7 0x10581 ∷ drive 5290 0 0x10200 ∷ [])) 5290 ≡ Broken 5 10
unfolding union_below seen_with line_of ones form_out form_in
answers_with_more = refl

answers_with_atn : judged_whole (reverse (drive 1200 0 0x00201 ∷ drive 3600 0 0x00601 ∷ drive 4800 0 0x01781 ∷ drive 4890 0 0x01581 ∷ drive 5290 7 0x10200 ∷ [])) 5290 ≡ Lawful
unfolding union_below seen_with line_of ones form_out form_in
answers_with_atn = refl

answers_after_a_fault : judged_whole (reverse (drive 1200 7 0x00280 ∷ drive 3600 7 0x00680 ∷ drive 4800 7 0x10781 ∷ drive 4890 7 0x10581 ∷ strike 5290 0 3 ∷ drive 5690 0 0x00200 ∷ [])) 5690 ≡ Broken 6 10
unfolding union_below seen_with line_of ones form_out form_in
answers_after_a_fault = refl

answers_again_early : judged_whole (reverse (drive 1200 7 0x00280 ∷ drive 3600 7 0x00680 ∷ drive 4800 7 0x10781 ∷ drive 4890 7 0x10581 ∷ drive 5290 0 0x00200 ∷ drive 5300 0 0x00000 ∷ drive 5699 0 0x00200 ∷ [])) 5699 ≡ Broken 7 10
unfolding union_below seen_with line_of ones form_out form_in
answers_again_early = refl

answers_again : judged_whole (reverse (drive 1200 7 0x00280 ∷ drive 3600 7 0x00680 ∷ drive 4800 7 0x10781 ∷ drive 4890 7 0x10581 ∷ drive 5290 0 0x00200 ∷ drive 5300 0 0x00000 ∷ drive 5700 0 0x00200 ∷ [])) 5700 ≡ Lawful
unfolding union_below seen_with line_of ones form_out form_in
answers_again = refl

another_raises : judged_whole (reverse (drive 1200 7 0x00280 ∷ drive 3600 7 0x00680 ∷ drive 4800 7 0x10781 ∷ drive 4890 7 0x10581 ∷ drive 5290 0 0x00200 ∷ drive 5300 3 0x00008 ∷ [])) 5300 ≡ Broken 6 10
unfolding union_below seen_with line_of ones form_out form_in
another_raises = refl

caller_raises : judged_whole (reverse (drive 1200 7 0x00280 ∷ drive 3600 7 0x00680 ∷ drive 4800 7 0x10781 ∷ drive 4890 7 0x10581 ∷ drive 5290 0 0x00200 ∷ drive 5300 7 0x10783 ∷ [])) 5300 ≡ Broken 6 10
unfolding union_below seen_with line_of ones form_out form_in
caller_raises = refl

called_raises_atn : judged_whole (reverse (drive 1200 0 0x00201 ∷ drive 3600 0 0x00601 ∷ drive 4800 0 0x01781 ∷ drive 4890 0 0x01581 ∷ drive 5290 7 0x00200 ∷ drive 5290 0 0x01781 ∷ drive 5300 7 0x10200 ∷ [])) 5300 ≡ Lawful
unfolding union_below seen_with line_of ones form_out form_in
called_raises_atn = refl

called_raises_more : judged_whole (reverse (drive 1200 0 0x00201 ∷ drive 3600 0 0x00601 ∷ drive 4800 0 0x01781 ∷ drive 4890 0 0x01581 ∷ drive 5290 7 0x00200 ∷ drive 5290 0 0x01781 ∷ drive 5300 7 0x10210 ∷ [])) 5300 ≡ Broken 7 10
unfolding union_below seen_with line_of ones form_out form_in
called_raises_more = refl

third_raises_bsy : judged_whole (reverse (drive 1200 0 0x00201 ∷ drive 3600 0 0x00601 ∷ drive 4800 0 0x01781 ∷ drive 4890 0 0x01581 ∷ drive 5290 7 0x00200 ∷ drive 5290 5 0x00200 ∷ [])) 5290 ≡ Broken 6 10
unfolding union_below seen_with line_of ones form_out form_in
third_raises_bsy = refl

caller_raises_bsy_unanswered : judged_whole (reverse (drive 1200 0 0x00201 ∷ drive 3600 0 0x00601 ∷ drive 4800 0 0x01781 ∷ drive 4890 0 0x01581 ∷ drive 5290 0 0x01781 ∷ [])) 5290 ≡ Broken 5 10
unfolding union_below seen_with line_of ones form_out form_in
caller_raises_bsy_unanswered = refl

third_raises_atn : judged_whole (reverse (drive 1200 0 0x00201 ∷ drive 3600 0 0x00601 ∷ drive 4800 0 0x01781 ∷ drive 4890 0 0x01581 ∷ drive 5290 7 0x00200 ∷ drive 5290 5 0x10000 ∷ [])) 5290 ≡ Broken 6 10
unfolding union_below seen_with line_of ones form_out form_in
third_raises_atn = refl

answers_after_a_withdrawal : judged_whole (reverse (drive 1200 7 0x00280 ∷ drive 3600 7 0x00680 ∷ drive 4800 7 0x10781 ∷ drive 4890 7 0x10581 ∷ drive 250004890 7 0x10400 ∷ drive 250005290 0 0x00200 ∷ [])) 250005290 ≡ Broken 6 10
unfolding union_below seen_with line_of ones form_out form_in
answers_after_a_withdrawal = refl

answers_a_reselection_with_more : judged_whole (reverse (drive 1200 0 0x00201 ∷ drive 3600 0 0x00601 ∷ drive 4800 0 0x01781 ∷ drive 4890 0 0x01581 ∷ drive 5290 7 0x00a00 ∷ [])) 5290 ≡ Broken 5 10
unfolding union_below seen_with line_of ones form_out form_in
answers_a_reselection_with_more = refl

answers_before_the_release : judged_whole (reverse (drive 1200 7 0x00280 ∷ drive 3600 7 0x00680 ∷ drive 4800 7 0x10781 ∷ drive 5290 0 0x00200 ∷ [])) 5290 ≡ Broken 4 10
unfolding union_below seen_with line_of ones form_out form_in
answers_before_the_release = refl

caller_raises_bsy_in_a_selection : judged_whole (reverse (drive 1200 7 0x00280 ∷ drive 3600 7 0x00680 ∷ drive 4800 7 0x10781 ∷ drive 4890 7 0x10581 ∷ drive 5290 0 0x00200 ∷ drive 5300 7 0x10781 ∷ [])) 5300 ≡ Broken 6 10
unfolding union_below seen_with line_of ones form_out form_in
caller_raises_bsy_in_a_selection = refl

called_raises_atn_in_a_selection : judged_whole (reverse (drive 1200 7 0x00280 ∷ drive 3600 7 0x00680 ∷ drive 4800 7 0x10781 ∷ drive 4890 7 0x10581 ∷ drive 5290 0 0x00200 ∷ drive 5300 0 0x10200 ∷ [])) 5300 ≡ Broken 6 10
unfolding union_below seen_with line_of ones form_out form_in
called_raises_atn_in_a_selection = refl

caller_raises_cd_in_a_reselection : judged_whole (reverse (drive 1200 0 0x00201 ∷ drive 3600 0 0x00601 ∷ drive 4800 0 0x01781 ∷ drive 4890 0 0x01581 ∷ drive 5290 7 0x00200 ∷ drive 5300 0 0x01d81 ∷ [])) 5300 ≡ Broken 6 10
unfolding union_below seen_with line_of ones form_out form_in
caller_raises_cd_in_a_reselection = refl

releases_sel_early : judged_whole (reverse (drive 1200 7 0x00280 ∷ drive 3600 7 0x00680 ∷ drive 4800 7 0x10781 ∷ drive 4890 7 0x10581 ∷ drive 5290 0 0x00200 ∷ drive 5379 7 0x10000 ∷ [])) 5379 ≡ Broken 6 11
unfolding union_below seen_with line_of ones form_out form_in
releases_sel_early = refl

releases_sel_in_time : judged_whole (reverse (drive 1200 7 0x00280 ∷ drive 3600 7 0x00680 ∷ drive 4800 7 0x10781 ∷ drive 4890 7 0x10581 ∷ drive 5290 0 0x00200 ∷ drive 5380 7 0x10000 ∷ [])) 5380 ≡ Lawful
unfolding union_below seen_with line_of ones form_out form_in
releases_sel_in_time = refl

releases_sel_with_data : judged_whole (reverse (drive 1200 7 0x00280 ∷ drive 3600 7 0x00680 ∷ drive 4800 7 0x10781 ∷ drive 4890 7 0x10581 ∷ drive 5290 0 0x00200 ∷ drive 5380 7 0x10133 ∷ [])) 5380 ≡ Lawful
unfolding union_below seen_with line_of ones form_out form_in
releases_sel_with_data = refl

releases_sel_with_ack : judged_whole (reverse (drive 1200 7 0x00280 ∷ drive 3600 7 0x00680 ∷ drive 4800 7 0x10781 ∷ drive 4890 7 0x10581 ∷ drive 5290 0 0x00200 ∷ drive 5380 7 0x18000 ∷ [])) 5380 ≡ Broken 6 11
unfolding union_below seen_with line_of ones form_out form_in
releases_sel_with_ack = refl

reselects_early : judged_whole (reverse (drive 1200 0 0x00201 ∷ drive 3600 0 0x00601 ∷ drive 4800 0 0x01781 ∷ drive 4890 0 0x01581 ∷ drive 5290 7 0x00200 ∷ drive 5290 0 0x01781 ∷ drive 5379 0 0x01200 ∷ [])) 5379 ≡ Broken 7 11
unfolding union_below seen_with line_of ones form_out form_in
reselects_early = refl

reselects_in_time : judged_whole (reverse (drive 1200 0 0x00201 ∷ drive 3600 0 0x00601 ∷ drive 4800 0 0x01781 ∷ drive 4890 0 0x01581 ∷ drive 5290 7 0x00200 ∷ drive 5290 0 0x01781 ∷ drive 5380 0 0x01200 ∷ [])) 5380 ≡ Lawful
unfolding union_below seen_with line_of ones form_out form_in
reselects_in_time = refl

reselects_without_bsy : judged_whole (reverse (drive 1200 0 0x00201 ∷ drive 3600 0 0x00601 ∷ drive 4800 0 0x01781 ∷ drive 4890 0 0x01581 ∷ drive 5290 7 0x00200 ∷ drive 5380 0 0x01000 ∷ [])) 5380 ≡ Broken 6 11
unfolding union_below seen_with line_of ones form_out form_in
reselects_without_bsy = refl

releases_sel_with_bsy : judged_whole (reverse (drive 1200 7 0x00280 ∷ drive 3600 7 0x00680 ∷ drive 4800 7 0x10781 ∷ drive 4890 7 0x10581 ∷ drive 5290 0 0x00200 ∷ drive 5380 7 0x10200 ∷ [])) 5380 ≡ Broken 6 11
unfolding union_below seen_with line_of ones form_out form_in
releases_sel_with_bsy = refl

releases_sel_with_cd : judged_whole (reverse (drive 1200 7 0x00280 ∷ drive 3600 7 0x00680 ∷ drive 4800 7 0x10781 ∷ drive 4890 7 0x10581 ∷ drive 5290 0 0x00200 ∷ drive 5380 7 0x10800 ∷ [])) 5380 ≡ Broken 6 11
unfolding union_below seen_with line_of ones form_out form_in
releases_sel_with_cd = refl

releases_sel_with_io : judged_whole (reverse (drive 1200 7 0x00280 ∷ drive 3600 7 0x00680 ∷ drive 4800 7 0x10781 ∷ drive 4890 7 0x10581 ∷ drive 5290 0 0x00200 ∷ drive 5380 7 0x11000 ∷ [])) 5380 ≡ Broken 6 11
unfolding union_below seen_with line_of ones form_out form_in
releases_sel_with_io = refl

releases_sel_with_msg : judged_whole (reverse (drive 1200 7 0x00280 ∷ drive 3600 7 0x00680 ∷ drive 4800 7 0x10781 ∷ drive 4890 7 0x10581 ∷ drive 5290 0 0x00200 ∷ drive 5380 7 0x12000 ∷ [])) 5380 ≡ Broken 6 11
unfolding union_below seen_with line_of ones form_out form_in
releases_sel_with_msg = refl

releases_sel_with_req : judged_whole (reverse (drive 1200 7 0x00280 ∷ drive 3600 7 0x00680 ∷ drive 4800 7 0x10781 ∷ drive 4890 7 0x10581 ∷ drive 5290 0 0x00200 ∷ drive 5380 7 0x14000 ∷ [])) 5380 ≡ Broken 6 11
unfolding union_below seen_with line_of ones form_out form_in
releases_sel_with_req = refl

gives_up_early : judged_whole (reverse (drive 1200 7 0x00280 ∷ drive 3600 7 0x00680 ∷ drive 4800 7 0x10781 ∷ drive 4890 7 0x10581 ∷ drive 250004889 7 0x10400 ∷ [])) 250004889 ≡ Broken 5 12
unfolding union_below seen_with line_of ones form_out form_in
gives_up_early = refl

gives_up_in_time : judged_whole (reverse (drive 1200 7 0x00280 ∷ drive 3600 7 0x00680 ∷ drive 4800 7 0x10781 ∷ drive 4890 7 0x10581 ∷ drive 250004890 7 0x10400 ∷ [])) 250004890 ≡ Lawful
unfolding union_below seen_with line_of ones form_out form_in
gives_up_in_time = refl

gives_up_at_once : judged_whole (reverse (drive 1200 7 0x00280 ∷ drive 3600 7 0x00680 ∷ drive 4800 7 0x10781 ∷ drive 4890 7 0x10581 ∷ drive 250004890 7 0x00000 ∷ [])) 250004890 ≡ Broken 5 12
unfolding union_below seen_with line_of ones form_out form_in
gives_up_at_once = refl

gives_up_with_atn : judged_whole (reverse (drive 1200 7 0x00280 ∷ drive 3600 7 0x00680 ∷ drive 4800 7 0x10781 ∷ drive 4890 7 0x10581 ∷ drive 250004890 7 0x00400 ∷ [])) 250004890 ≡ Broken 5 12
unfolding union_below seen_with line_of ones form_out form_in
gives_up_with_atn = refl

leaves_early : judged_whole (reverse (drive 1200 7 0x00280 ∷ drive 3600 7 0x00680 ∷ drive 4800 7 0x10781 ∷ drive 4890 7 0x10581 ∷ drive 250004890 7 0x10400 ∷ drive 250204979 7 0x00000 ∷ [])) 250204979 ≡ Broken 6 12
unfolding union_below seen_with line_of ones form_out form_in
leaves_early = refl

leaves_in_time : judged_whole (reverse (drive 1200 7 0x00280 ∷ drive 3600 7 0x00680 ∷ drive 4800 7 0x10781 ∷ drive 4890 7 0x10581 ∷ drive 250004890 7 0x10400 ∷ drive 250204980 7 0x00000 ∷ [])) 250204980 ≡ Lawful
unfolding union_below seen_with line_of ones form_out form_in
leaves_in_time = refl

leaves_half : judged_whole (reverse (drive 1200 7 0x00280 ∷ drive 3600 7 0x00680 ∷ drive 4800 7 0x10781 ∷ drive 4890 7 0x10581 ∷ drive 250004890 7 0x10400 ∷ drive 250204980 7 0x10000 ∷ [])) 250204980 ≡ Broken 6 12
unfolding union_below seen_with line_of ones form_out form_in
leaves_half = refl

hands_over_without_io : judged_whole (reverse (drive 1200 0 0x00201 ∷ drive 3600 0 0x00601 ∷ drive 4800 0 0x01781 ∷ drive 4890 0 0x01581 ∷ drive 5290 7 0x00200 ∷ drive 5290 0 0x01781 ∷ drive 5380 0 0x00200 ∷ [])) 5380 ≡ Broken 7 13
unfolding union_below seen_with line_of ones form_out form_in
hands_over_without_io = refl

called_gives_bsy_up : judged_whole (reverse (drive 1200 0 0x00201 ∷ drive 3600 0 0x00601 ∷ drive 4800 0 0x01781 ∷ drive 4890 0 0x01581 ∷ drive 5290 7 0x00200 ∷ drive 5290 0 0x01781 ∷ drive 5300 7 0x00000 ∷ [])) 5300 ≡ Broken 7 13
unfolding union_below seen_with line_of ones form_out form_in
called_gives_bsy_up = refl

takes_over_with_a_line : judged_whole (reverse (drive 1200 0 0x00201 ∷ drive 3600 0 0x00601 ∷ drive 4800 0 0x01781 ∷ drive 4890 0 0x01581 ∷ drive 5290 7 0x00200 ∷ drive 5290 0 0x01781 ∷ drive 5300 7 0x10200 ∷ drive 5380 0 0x01200 ∷ drive 5400 7 0x10000 ∷ [])) 5400 ≡ Lawful
unfolding union_below seen_with line_of ones form_out form_in
takes_over_with_a_line = refl

takes_over_with_data : judged_whole (reverse (drive 1200 0 0x00201 ∷ drive 3600 0 0x00601 ∷ drive 4800 0 0x01781 ∷ drive 4890 0 0x01581 ∷ drive 5290 7 0x00200 ∷ drive 5290 0 0x01781 ∷ drive 5380 0 0x01200 ∷ drive 5400 7 0x00080 ∷ [])) 5400 ≡ Broken 8 13
unfolding union_below seen_with line_of ones form_out form_in
takes_over_with_data = refl

asks_too_soon : judged_whole (reverse (drive 1200 0 0x00201 ∷ drive 3600 0 0x00601 ∷ drive 4800 0 0x01781 ∷ drive 4890 0 0x01581 ∷ drive 5290 7 0x00200 ∷ drive 5290 0 0x01781 ∷ drive 5380 0 0x05200 ∷ [])) 5380 ≡ Broken 7 13
unfolding union_below seen_with line_of ones form_out form_in
asks_too_soon = refl

keeps_bsy_in_a_selection : judged_whole (reverse (drive 1200 7 0x00280 ∷ drive 3600 7 0x00680 ∷ drive 4800 7 0x10781 ∷ drive 4890 7 0x10581 ∷ drive 5290 0 0x00200 ∷ drive 5380 7 0x10000 ∷ drive 5400 7 0x10200 ∷ drive 5500 7 0x103c0 ∷ drive 5600 7 0x101c0 ∷ [])) 5600 ≡ Lawful
unfolding union_below seen_with line_of ones form_out form_in
keeps_bsy_in_a_selection = refl

target_frees_a_reselection_slowly : judged_whole (reverse (drive 1200 0 0x00201 ∷ drive 3600 0 0x00601 ∷ drive 4800 0 0x01781 ∷ drive 4890 0 0x01581 ∷ drive 5290 7 0x00200 ∷ drive 5290 0 0x01781 ∷ drive 5380 0 0x01200 ∷ drive 5380 7 0x00000 ∷ drive 5780 0 0x01000 ∷ [])) 5780 ≡ Lawful
unfolding union_below seen_with line_of ones form_out form_in
target_frees_a_reselection_slowly = refl

hands_over_without_io_before : judged_whole (reverse (drive 1200 0 0x00201 ∷ drive 3600 0 0x00601 ∷ drive 4800 0 0x01781 ∷ drive 4890 0 0x01581 ∷ drive 5290 7 0x00200 ∷ drive 5290 0 0x01781 ∷ drive 5300 0 0x00781 ∷ drive 5380 0 0x01200 ∷ [])) 5380 ≡ Broken 8 13
unfolding union_below seen_with line_of ones form_out form_in
hands_over_without_io_before = refl

hands_over_without_bsy_before : judged_whole (reverse (drive 1200 0 0x00201 ∷ drive 3600 0 0x00601 ∷ drive 4800 0 0x01781 ∷ drive 4890 0 0x01581 ∷ drive 5290 7 0x00200 ∷ drive 5290 0 0x01781 ∷ drive 5300 0 0x01581 ∷ drive 5380 0 0x01200 ∷ [])) 5380 ≡ Broken 8 13
unfolding union_below seen_with line_of ones form_out form_in
hands_over_without_bsy_before = refl

hands_over_without_bsy : judged_whole (reverse (drive 1200 0 0x00201 ∷ drive 3600 0 0x00601 ∷ drive 4800 0 0x01781 ∷ drive 4890 0 0x01581 ∷ drive 5290 7 0x00200 ∷ drive 5290 0 0x01781 ∷ drive 5380 0 0x01000 ∷ [])) 5380 ≡ Broken 7 13
unfolding union_below seen_with line_of ones form_out form_in
hands_over_without_bsy = refl

caller_takes_bsy_back : judged_whole (reverse (drive 1200 0 0x00201 ∷ drive 3600 0 0x00601 ∷ drive 4800 0 0x01781 ∷ drive 4890 0 0x01581 ∷ drive 5290 7 0x00200 ∷ drive 5290 0 0x01781 ∷ drive 5300 0 0x01581 ∷ [])) 5300 ≡ Lawful
unfolding union_below seen_with line_of ones form_out form_in
caller_takes_bsy_back = refl

req_outside_a_connection : judged_whole (reverse (drive 1200 7 0x00280 ∷ drive 1300 3 0x04000 ∷ [])) 1300 ≡ Lawful
unfolding union_below seen_with line_of ones form_out form_in
req_outside_a_connection = refl

resets_with_more : judged_whole (reverse (drive 1200 7 0x00280 ∷ drive 2000 3 0x20008 ∷ [])) 2000 ≡ Broken 2 28
unfolding union_below seen_with line_of ones form_out form_in
resets_with_more = refl

raises_in_reset : judged_whole (reverse (drive 1200 7 0x00280 ∷ drive 2000 3 0x20000 ∷ drive 2100 3 0x20008 ∷ [])) 2100 ≡ Broken 3 28
unfolding union_below seen_with line_of ones form_out form_in
raises_in_reset = refl

two_reset : judged_whole (reverse (drive 1200 7 0x00280 ∷ drive 2000 3 0x20000 ∷ drive 2100 5 0x20000 ∷ [])) 2100 ≡ Lawful
unfolding union_below seen_with line_of ones form_out form_in
two_reset = refl

clears_late : judged_whole (reverse (drive 1200 7 0x00280 ∷ drive 2000 3 0x20000 ∷ drive 2801 7 0x00000 ∷ [])) 2801 ≡ Broken 3 28
unfolding union_below seen_with line_of ones form_out form_in
clears_late = refl

clears_in_time : judged_whole (reverse (drive 1200 7 0x00280 ∷ drive 2000 3 0x20000 ∷ drive 2800 7 0x00000 ∷ [])) 2800 ≡ Lawful
unfolding union_below seen_with line_of ones form_out form_in
clears_in_time = refl

lines_at_end : judged_whole (reverse (drive 1200 7 0x00280 ∷ drive 2000 3 0x20000 ∷ [])) 2801 ≡ Broken 3 28
unfolding union_below seen_with line_of ones form_out form_in
lines_at_end = refl

holds_reset_short : judged_whole (reverse (drive 2000 3 0x20000 ∷ drive 26999 3 0x00000 ∷ [])) 26999 ≡ Broken 2 28
unfolding union_below seen_with line_of ones form_out form_in
holds_reset_short = refl

holds_reset : judged_whole (reverse (drive 2000 3 0x20000 ∷ drive 27000 3 0x00000 ∷ [])) 27000 ≡ Lawful
unfolding union_below seen_with line_of ones form_out form_in
holds_reset = refl

second_holds_reset_short : judged_whole (reverse (drive 2000 3 0x20000 ∷ drive 2100 5 0x20000 ∷ drive 27000 3 0x00000 ∷ drive 27099 5 0x00000 ∷ [])) 27099 ≡ Broken 4 28
unfolding union_below seen_with line_of ones form_out form_in
second_holds_reset_short = refl

enters_after_reset_early : judged_whole (reverse (drive 2000 3 0x20000 ∷ drive 27000 3 0x00000 ∷ drive 28199 7 0x00280 ∷ [])) 28199 ≡ Broken 3 4
unfolding union_below seen_with line_of ones form_out form_in
enters_after_reset_early = refl

enters_after_reset : judged_whole (reverse (drive 2000 3 0x20000 ∷ drive 27000 3 0x00000 ∷ drive 28200 7 0x00280 ∷ [])) 28200 ≡ Lawful
unfolding union_below seen_with line_of ones form_out form_in
enters_after_reset = refl

left_at_end_in_reset : judged_whole (reverse (drive 1200 7 0x00280 ∷ drive 1300 3 0x00008 ∷ drive 1400 7 0x00000 ∷ drive 2500 5 0x20000 ∷ [])) 2601 ≡ Lawful
unfolding union_below seen_with line_of ones form_out form_in
left_at_end_in_reset = refl

enters_as_reset_ends : judged_whole (reverse (drive 2000 3 0x20000 ∷ drive 27000 3 0x00208 ∷ [])) 27000 ≡ Broken 2 28
unfolding union_below seen_with line_of ones form_out form_in
enters_as_reset_ends = refl

rules_rest_in_reset : judged_whole (reverse (drive 1200 7 0x00280 ∷ drive 2000 3 0x20000 ∷ drive 2100 7 0x00080 ∷ drive 2800 7 0x00000 ∷ drive 27000 3 0x00000 ∷ [])) 27000 ≡ Lawful
unfolding union_below seen_with line_of ones form_out form_in
rules_rest_in_reset = refl

target_raises_ack : judged_whole (reverse (drive 1200 7 0x00280 ∷ drive 3600 7 0x00680 ∷ drive 4800 7 0x10781 ∷ drive 4890 7 0x10581 ∷ drive 5290 0 0x00200 ∷ drive 5380 7 0x10000 ∷ drive 5400 0 0x08200 ∷ [])) 5400 ≡ Broken 7 14
unfolding union_below seen_with line_of ones form_out form_in
target_raises_ack = refl

initiator_raises_req : judged_whole (reverse (drive 1200 7 0x00280 ∷ drive 3600 7 0x00680 ∷ drive 4800 7 0x10781 ∷ drive 4890 7 0x10581 ∷ drive 5290 0 0x00200 ∷ drive 5380 7 0x10000 ∷ drive 5400 7 0x14000 ∷ [])) 5400 ≡ Broken 7 14
unfolding union_below seen_with line_of ones form_out form_in
initiator_raises_req = refl

initiator_raises_req_later : judged_whole (reverse (drive 1200 7 0x00280 ∷ drive 3600 7 0x00680 ∷ drive 4800 7 0x10781 ∷ drive 4890 7 0x10581 ∷ drive 5290 0 0x00200 ∷ drive 5380 7 0x10000 ∷ drive 5380 0 0x02a00 ∷ drive 5780 7 0x14000 ∷ [])) 5780 ≡ Broken 8 14
unfolding union_below seen_with line_of ones form_out form_in
initiator_raises_req_later = refl

initiator_raises_cd : judged_whole (reverse (drive 1200 7 0x00280 ∷ drive 3600 7 0x00680 ∷ drive 4800 7 0x10781 ∷ drive 4890 7 0x10581 ∷ drive 5290 0 0x00200 ∷ drive 5380 7 0x10000 ∷ drive 5400 7 0x10800 ∷ [])) 5400 ≡ Broken 7 14
unfolding union_below seen_with line_of ones form_out form_in
initiator_raises_cd = refl

initiator_raises_io : judged_whole (reverse (drive 1200 7 0x00280 ∷ drive 3600 7 0x00680 ∷ drive 4800 7 0x10781 ∷ drive 4890 7 0x10581 ∷ drive 5290 0 0x00200 ∷ drive 5380 7 0x10000 ∷ drive 5400 7 0x11000 ∷ [])) 5400 ≡ Broken 7 14
unfolding union_below seen_with line_of ones form_out form_in
initiator_raises_io = refl

initiator_raises_msg : judged_whole (reverse (drive 1200 7 0x00280 ∷ drive 3600 7 0x00680 ∷ drive 4800 7 0x10781 ∷ drive 4890 7 0x10581 ∷ drive 5290 0 0x00200 ∷ drive 5380 7 0x10000 ∷ drive 5400 7 0x12000 ∷ [])) 5400 ≡ Broken 7 14
unfolding union_below seen_with line_of ones form_out form_in
initiator_raises_msg = refl

third_raises : judged_whole (reverse (drive 1200 7 0x00280 ∷ drive 3600 7 0x00680 ∷ drive 4800 7 0x10781 ∷ drive 4890 7 0x10581 ∷ drive 5290 0 0x00200 ∷ drive 5380 7 0x10000 ∷ drive 5400 3 0x00008 ∷ [])) 5400 ≡ Broken 7 14
unfolding union_below seen_with line_of ones form_out form_in
third_raises = refl

begins_with_ack : judged_whole (reverse (drive 1200 0 0x00201 ∷ drive 3600 0 0x00601 ∷ drive 4800 0 0x01781 ∷ drive 4890 0 0x01581 ∷ drive 5290 7 0x00200 ∷ drive 5290 0 0x01781 ∷ drive 5380 0 0x09200 ∷ [])) 5380 ≡ Broken 7 14
unfolding union_below seen_with line_of ones form_out form_in
begins_with_ack = refl

phase_changes_with_req : judged_whole (reverse (drive 1200 7 0x00280 ∷ drive 3600 7 0x00680 ∷ drive 4800 7 0x10781 ∷ drive 4890 7 0x10581 ∷ drive 5290 0 0x00200 ∷ drive 5380 7 0x10000 ∷ drive 5380 0 0x02a00 ∷ drive 5780 0 0x06a00 ∷ drive 5790 0 0x04a00 ∷ [])) 5790 ≡ Broken 9 14
unfolding union_below seen_with line_of ones form_out form_in
phase_changes_with_req = refl

asks_early : judged_whole (reverse (drive 1200 7 0x00280 ∷ drive 3600 7 0x00680 ∷ drive 4800 7 0x10781 ∷ drive 4890 7 0x10581 ∷ drive 5290 0 0x00200 ∷ drive 5380 7 0x10000 ∷ drive 5380 0 0x02a00 ∷ drive 5779 0 0x06a00 ∷ [])) 5779 ≡ Broken 8 14
unfolding union_below seen_with line_of ones form_out form_in
asks_early = refl

asks_in_time : judged_whole (reverse (drive 1200 7 0x00280 ∷ drive 3600 7 0x00680 ∷ drive 4800 7 0x10781 ∷ drive 4890 7 0x10581 ∷ drive 5290 0 0x00200 ∷ drive 5380 7 0x10000 ∷ drive 5380 0 0x02a00 ∷ drive 5780 0 0x06a00 ∷ [])) 5780 ≡ Lawful
unfolding union_below seen_with line_of ones form_out form_in
asks_in_time = refl

asks_in_a_reserved_phase : judged_whole (reverse (drive 1200 7 0x00280 ∷ drive 3600 7 0x00680 ∷ drive 4800 7 0x10781 ∷ drive 4890 7 0x10581 ∷ drive 5290 0 0x00200 ∷ drive 5380 7 0x10000 ∷ drive 5380 0 0x02200 ∷ drive 5780 0 0x06200 ∷ [])) 5780 ≡ Broken 8 14
unfolding union_below seen_with line_of ones form_out form_in
asks_in_a_reserved_phase = refl

asks_early_after_the_beginning : judged_whole (reverse (drive 1200 7 0x00280 ∷ drive 3600 7 0x00680 ∷ drive 4800 7 0x10781 ∷ drive 4890 7 0x10581 ∷ drive 5290 0 0x00200 ∷ drive 5380 7 0x10000 ∷ drive 5779 0 0x04200 ∷ [])) 5779 ≡ Broken 7 14
unfolding union_below seen_with line_of ones form_out form_in
asks_early_after_the_beginning = refl

asks_with_the_phase : judged_whole (reverse (drive 1200 7 0x00280 ∷ drive 3600 7 0x00680 ∷ drive 4800 7 0x10781 ∷ drive 4890 7 0x10581 ∷ drive 5290 0 0x00200 ∷ drive 5380 7 0x10000 ∷ drive 5800 0 0x06a00 ∷ [])) 5800 ≡ Broken 7 14
unfolding union_below seen_with line_of ones form_out form_in
asks_with_the_phase = refl

target_raises_atn : judged_whole (reverse (drive 1200 7 0x00280 ∷ drive 3600 7 0x00680 ∷ drive 4800 7 0x10781 ∷ drive 4890 7 0x10581 ∷ drive 5290 0 0x00200 ∷ drive 5380 7 0x10000 ∷ drive 5400 0 0x10200 ∷ [])) 5400 ≡ Broken 7 14
unfolding union_below seen_with line_of ones form_out form_in
target_raises_atn = refl

phase_changes_with_ack : judged_whole (reverse (drive 1200 7 0x00280 ∷ drive 3600 7 0x00680 ∷ drive 4800 7 0x10781 ∷ drive 4890 7 0x10581 ∷ drive 5290 0 0x00200 ∷ drive 5380 7 0x10000 ∷ drive 5380 0 0x02a00 ∷ drive 5780 0 0x06a00 ∷ drive 5780 7 0x001c0 ∷ drive 5870 7 0x081c0 ∷ drive 5870 0 0x02a00 ∷ drive 5880 0 0x00a00 ∷ [])) 5880 ≡ Broken 12 14
unfolding union_below seen_with line_of ones form_out form_in
phase_changes_with_ack = refl

target_raises_data_out : judged_whole (reverse (drive 1200 7 0x00280 ∷ drive 3600 7 0x00680 ∷ drive 4800 7 0x10781 ∷ drive 4890 7 0x10581 ∷ drive 5290 0 0x00200 ∷ drive 5380 7 0x10000 ∷ drive 5400 0 0x00301 ∷ [])) 5400 ≡ Broken 7 15
unfolding union_below seen_with line_of ones form_out form_in
target_raises_data_out = refl

initiator_raises_data_in : judged_whole (reverse (drive 1200 0 0x00201 ∷ drive 3600 0 0x00601 ∷ drive 4800 0 0x01781 ∷ drive 4890 0 0x01581 ∷ drive 5290 7 0x00200 ∷ drive 5290 0 0x01781 ∷ drive 5380 0 0x01200 ∷ drive 5380 7 0x00000 ∷ drive 5400 7 0x00080 ∷ [])) 5400 ≡ Broken 9 15
unfolding union_below seen_with line_of ones form_out form_in
initiator_raises_data_in = refl

initiator_releases_late : judged_whole (reverse (drive 1200 7 0x00280 ∷ drive 3600 7 0x00680 ∷ drive 4800 7 0x10781 ∷ drive 4890 7 0x10581 ∷ drive 5290 0 0x00200 ∷ drive 5380 7 0x10133 ∷ drive 5400 0 0x01200 ∷ drive 5801 7 0x10000 ∷ [])) 5801 ≡ Broken 8 15
unfolding union_below seen_with line_of ones form_out form_in
initiator_releases_late = refl

initiator_releases_in_time : judged_whole (reverse (drive 1200 7 0x00280 ∷ drive 3600 7 0x00680 ∷ drive 4800 7 0x10781 ∷ drive 4890 7 0x10581 ∷ drive 5290 0 0x00200 ∷ drive 5380 7 0x10133 ∷ drive 5400 0 0x01200 ∷ drive 5800 7 0x10000 ∷ [])) 5800 ≡ Lawful
unfolding union_below seen_with line_of ones form_out form_in
initiator_releases_in_time = refl

initiator_data_at_end : judged_whole (reverse (drive 1200 7 0x00280 ∷ drive 3600 7 0x00680 ∷ drive 4800 7 0x10781 ∷ drive 4890 7 0x10581 ∷ drive 5290 0 0x00200 ∷ drive 5380 7 0x10133 ∷ drive 5400 0 0x01200 ∷ [])) 5801 ≡ Broken 8 15
unfolding union_below seen_with line_of ones form_out form_in
initiator_data_at_end = refl

target_drives_early : judged_whole (reverse (drive 1200 7 0x00280 ∷ drive 3600 7 0x00680 ∷ drive 4800 7 0x10781 ∷ drive 4890 7 0x10581 ∷ drive 5290 0 0x00200 ∷ drive 5380 7 0x10000 ∷ drive 5400 0 0x01200 ∷ drive 6199 0 0x01301 ∷ [])) 6199 ≡ Broken 8 16
unfolding union_below seen_with line_of ones form_out form_in
target_drives_early = refl

target_drives_in_time : judged_whole (reverse (drive 1200 7 0x00280 ∷ drive 3600 7 0x00680 ∷ drive 4800 7 0x10781 ∷ drive 4890 7 0x10581 ∷ drive 5290 0 0x00200 ∷ drive 5380 7 0x10000 ∷ drive 5400 0 0x01200 ∷ drive 6200 0 0x01301 ∷ [])) 6200 ≡ Lawful
unfolding union_below seen_with line_of ones form_out form_in
target_drives_in_time = refl

target_drives_after_reselection : judged_whole (reverse (drive 1200 0 0x00201 ∷ drive 3600 0 0x00601 ∷ drive 4800 0 0x01781 ∷ drive 4890 0 0x01581 ∷ drive 5290 7 0x00200 ∷ drive 5290 0 0x01781 ∷ drive 5380 0 0x01200 ∷ drive 5380 7 0x00000 ∷ drive 5390 0 0x01301 ∷ [])) 5390 ≡ Lawful
unfolding union_below seen_with line_of ones form_out form_in
target_drives_after_reselection = refl

target_drives_after_a_turn : judged_whole (reverse (drive 1200 0 0x00201 ∷ drive 3600 0 0x00601 ∷ drive 4800 0 0x01781 ∷ drive 4890 0 0x01581 ∷ drive 5290 7 0x00200 ∷ drive 5290 0 0x01781 ∷ drive 5380 0 0x01200 ∷ drive 5380 7 0x00000 ∷ drive 5400 0 0x00200 ∷ drive 5500 0 0x01200 ∷ drive 6299 0 0x01301 ∷ [])) 6299 ≡ Broken 11 16
unfolding union_below seen_with line_of ones form_out form_in
target_drives_after_a_turn = refl

target_releases_late : judged_whole (reverse (drive 1200 7 0x00280 ∷ drive 3600 7 0x00680 ∷ drive 4800 7 0x10781 ∷ drive 4890 7 0x10581 ∷ drive 5290 0 0x00200 ∷ drive 5380 7 0x10000 ∷ drive 5400 0 0x01200 ∷ drive 6200 0 0x01301 ∷ drive 6300 0 0x00301 ∷ drive 6346 0 0x00200 ∷ [])) 6346 ≡ Broken 10 16
unfolding union_below seen_with line_of ones form_out form_in
target_releases_late = refl

target_releases_in_time : judged_whole (reverse (drive 1200 7 0x00280 ∷ drive 3600 7 0x00680 ∷ drive 4800 7 0x10781 ∷ drive 4890 7 0x10581 ∷ drive 5290 0 0x00200 ∷ drive 5380 7 0x10000 ∷ drive 5400 0 0x01200 ∷ drive 6200 0 0x01301 ∷ drive 6300 0 0x00301 ∷ drive 6345 0 0x00200 ∷ [])) 6345 ≡ Lawful
unfolding union_below seen_with line_of ones form_out form_in
target_releases_in_time = refl

target_data_at_end : judged_whole (reverse (drive 1200 7 0x00280 ∷ drive 3600 7 0x00680 ∷ drive 4800 7 0x10781 ∷ drive 4890 7 0x10581 ∷ drive 5290 0 0x00200 ∷ drive 5380 7 0x10000 ∷ drive 5400 0 0x01200 ∷ drive 6200 0 0x01301 ∷ drive 6300 0 0x00301 ∷ [])) 6346 ≡ Broken 10 16
unfolding union_below seen_with line_of ones form_out form_in
target_data_at_end = refl

target_keeps_data_a_moment : judged_whole (reverse (drive 1200 7 0x00280 ∷ drive 3600 7 0x00680 ∷ drive 4800 7 0x10781 ∷ drive 4890 7 0x10581 ∷ drive 5290 0 0x00200 ∷ drive 5380 7 0x10000 ∷ drive 5380 0 0x02a00 ∷ drive 5780 0 0x06a00 ∷ drive 5780 7 0x001c0 ∷ drive 5870 7 0x081c0 ∷ drive 5870 0 0x02a00 ∷ drive 5870 7 0x00000 ∷ drive 5870 0 0x03a00 ∷ drive 6670 0 0x03a02 ∷ drive 6725 0 0x07a02 ∷ drive 6725 7 0x08000 ∷ drive 6725 0 0x03a02 ∷ drive 6725 7 0x00000 ∷ drive 6800 0 0x00a03 ∷ drive 6810 0 0x00a01 ∷ drive 6840 0 0x00a00 ∷ [])) 6840 ≡ Lawful
unfolding union_below seen_with line_of ones form_out form_in
target_keeps_data_a_moment = refl

initiator_keeps_data_a_moment : judged_whole (reverse (drive 1200 7 0x00280 ∷ drive 3600 7 0x00680 ∷ drive 4800 7 0x10781 ∷ drive 4890 7 0x10581 ∷ drive 5290 0 0x00200 ∷ drive 5380 7 0x10000 ∷ drive 5380 0 0x02a00 ∷ drive 5780 0 0x06a00 ∷ drive 5780 7 0x001c0 ∷ drive 5870 7 0x081c0 ∷ drive 5870 0 0x02a00 ∷ drive 5870 7 0x001c0 ∷ drive 5870 0 0x03a00 ∷ drive 5900 7 0x00080 ∷ drive 6000 7 0x00000 ∷ [])) 6000 ≡ Lawful
unfolding union_below seen_with line_of ones form_out form_in
initiator_keeps_data_a_moment = refl

even_parity : judged_whole (reverse (drive 1200 7 0x00280 ∷ drive 3600 7 0x00680 ∷ drive 4800 7 0x10781 ∷ drive 4890 7 0x10581 ∷ drive 5290 0 0x00200 ∷ drive 5380 7 0x10000 ∷ drive 5380 0 0x02a00 ∷ drive 5780 0 0x06a00 ∷ drive 5780 7 0x000c0 ∷ drive 5870 7 0x080c0 ∷ [])) 5870 ≡ Broken 10 17
unfolding union_below seen_with line_of ones form_out form_in
even_parity = refl

odd_parity : judged_whole (reverse (drive 1200 7 0x00280 ∷ drive 3600 7 0x00680 ∷ drive 4800 7 0x10781 ∷ drive 4890 7 0x10581 ∷ drive 5290 0 0x00200 ∷ drive 5380 7 0x10000 ∷ drive 5380 0 0x02a00 ∷ drive 5780 0 0x06a00 ∷ drive 5780 7 0x001c0 ∷ drive 5870 7 0x081c0 ∷ [])) 5870 ≡ Lawful
unfolding union_below seen_with line_of ones form_out form_in
odd_parity = refl

acknowledges_nothing : judged_whole (reverse (drive 1200 7 0x00280 ∷ drive 3600 7 0x00680 ∷ drive 4800 7 0x10781 ∷ drive 4890 7 0x10581 ∷ drive 5290 0 0x00200 ∷ drive 5380 7 0x10000 ∷ drive 5380 0 0x02a00 ∷ drive 5400 7 0x101c0 ∷ drive 5500 7 0x181c0 ∷ [])) 5500 ≡ Broken 9 18
unfolding union_below seen_with line_of ones form_out form_in
acknowledges_nothing = refl

asks_while_acknowledged : judged_whole (reverse (drive 1200 7 0x00280 ∷ drive 3600 7 0x00680 ∷ drive 4800 7 0x10781 ∷ drive 4890 7 0x10581 ∷ drive 5290 0 0x00200 ∷ drive 5380 7 0x10000 ∷ drive 5380 0 0x02a00 ∷ drive 5780 0 0x06a00 ∷ drive 5780 7 0x001c0 ∷ drive 5870 7 0x081c0 ∷ drive 5870 0 0x02a00 ∷ drive 5880 0 0x06a00 ∷ [])) 5880 ≡ Broken 12 18
unfolding union_below seen_with line_of ones form_out form_in
asks_while_acknowledged = refl

takes_the_question_back : judged_whole (reverse (drive 1200 7 0x00280 ∷ drive 3600 7 0x00680 ∷ drive 4800 7 0x10781 ∷ drive 4890 7 0x10581 ∷ drive 5290 0 0x00200 ∷ drive 5380 7 0x10000 ∷ drive 5380 0 0x02a00 ∷ drive 5780 0 0x06a00 ∷ drive 5790 0 0x02a00 ∷ [])) 5790 ≡ Broken 9 18
unfolding union_below seen_with line_of ones form_out form_in
takes_the_question_back = refl

lets_go_early : judged_whole (reverse (drive 1200 7 0x00280 ∷ drive 3600 7 0x00680 ∷ drive 4800 7 0x10781 ∷ drive 4890 7 0x10581 ∷ drive 5290 0 0x00200 ∷ drive 5380 7 0x10000 ∷ drive 5380 0 0x02a00 ∷ drive 5780 0 0x06a00 ∷ drive 5780 7 0x001c0 ∷ drive 5870 7 0x081c0 ∷ drive 5880 7 0x00000 ∷ [])) 5880 ≡ Broken 11 18
unfolding union_below seen_with line_of ones form_out form_in
lets_go_early = refl

command_asked_with_ack_under_an_agreement : judged_whole (reverse (drive 1200 7 0x00280 ∷ drive 3600 7 0x00680 ∷ drive 4800 7 0x10781 ∷ drive 4890 7 0x10581 ∷ drive 5290 0 0x00200 ∷ drive 5380 7 0x10000 ∷ drive 5380 0 0x02a00 ∷ drive 5780 0 0x06a00 ∷ drive 5780 7 0x101c0 ∷ drive 5835 7 0x181c0 ∷ drive 5835 0 0x02a00 ∷ drive 5835 7 0x10000 ∷ drive 5835 0 0x06a00 ∷ drive 5835 7 0x10001 ∷ drive 5890 7 0x18001 ∷ drive 5890 0 0x02a00 ∷ drive 5890 7 0x10000 ∷ drive 5890 0 0x06a00 ∷ drive 5890 7 0x10103 ∷ drive 5945 7 0x18103 ∷ drive 5945 0 0x02a00 ∷ drive 5945 7 0x10000 ∷ drive 5945 0 0x06a00 ∷ drive 5945 7 0x10001 ∷ drive 6000 7 0x18001 ∷ drive 6000 0 0x02a00 ∷ drive 6000 7 0x10000 ∷ drive 6000 0 0x06a00 ∷ drive 6000 7 0x10032 ∷ drive 6055 7 0x18032 ∷ drive 6055 0 0x02a00 ∷ drive 6055 7 0x10000 ∷ drive 6055 0 0x06a00 ∷ drive 6055 7 0x00008 ∷ drive 6145 7 0x08008 ∷ drive 6145 0 0x02a00 ∷ drive 6145 7 0x00000 ∷ drive 6145 0 0x03a00 ∷ drive 6945 0 0x03a01 ∷ drive 7000 0 0x07a01 ∷ drive 7000 7 0x08000 ∷ drive 7000 0 0x03a00 ∷ drive 7000 7 0x00000 ∷ drive 7000 0 0x03b03 ∷ drive 7055 0 0x07b03 ∷ drive 7055 7 0x08000 ∷ drive 7055 0 0x03a00 ∷ drive 7055 7 0x00000 ∷ drive 7055 0 0x03a01 ∷ drive 7110 0 0x07a01 ∷ drive 7110 7 0x08000 ∷ drive 7110 0 0x03a00 ∷ drive 7110 7 0x00000 ∷ drive 7110 0 0x03a32 ∷ drive 7165 0 0x07a32 ∷ drive 7165 7 0x08000 ∷ drive 7165 0 0x03a00 ∷ drive 7165 7 0x00000 ∷ drive 7165 0 0x03a08 ∷ drive 7220 0 0x07a08 ∷ drive 7220 7 0x08000 ∷ drive 7220 0 0x03a00 ∷ drive 7220 7 0x00000 ∷ drive 7220 0 0x00a00 ∷ drive 7620 0 0x04a00 ∷ drive 7620 7 0x00008 ∷ drive 7675 7 0x08008 ∷ drive 7675 0 0x00a00 ∷ drive 7675 7 0x00000 ∷ drive 7675 0 0x04a00 ∷ drive 7675 7 0x00100 ∷ drive 7730 7 0x08100 ∷ drive 7730 0 0x00a00 ∷ drive 7730 7 0x00000 ∷ drive 7730 0 0x04a00 ∷ drive 7730 7 0x00100 ∷ drive 7785 7 0x08100 ∷ drive 7785 0 0x00a00 ∷ drive 7785 7 0x00000 ∷ drive 7785 0 0x04a00 ∷ drive 7785 7 0x00100 ∷ drive 7840 7 0x08100 ∷ drive 7840 0 0x00a00 ∷ drive 7850 0 0x04a00 ∷ [])) 7850 ≡ Broken 84 18
unfolding union_below seen_with line_of ones form_out form_in
command_asked_with_ack_under_an_agreement = refl

ack_outside_a_connection : judged_whole (reverse (drive 1200 7 0x00280 ∷ drive 1300 3 0x08000 ∷ [])) 1300 ≡ Lawful
unfolding union_below seen_with line_of ones form_out form_in
ack_outside_a_connection = refl

set_up_short : judged_whole (reverse (drive 1200 7 0x00280 ∷ drive 3600 7 0x00680 ∷ drive 4800 7 0x10781 ∷ drive 4890 7 0x10581 ∷ drive 5290 0 0x00200 ∷ drive 5380 7 0x10000 ∷ drive 5380 0 0x02a00 ∷ drive 5780 0 0x06a00 ∷ drive 5780 7 0x001c0 ∷ drive 5870 7 0x081c0 ∷ drive 5870 0 0x02a00 ∷ drive 5870 7 0x00000 ∷ drive 5870 0 0x00a00 ∷ drive 6270 0 0x04a00 ∷ drive 6270 7 0x00008 ∷ drive 6324 7 0x08008 ∷ [])) 6324 ≡ Broken 16 19
unfolding union_below seen_with line_of ones form_out form_in
set_up_short = refl

set_up_in_time : judged_whole (reverse (drive 1200 7 0x00280 ∷ drive 3600 7 0x00680 ∷ drive 4800 7 0x10781 ∷ drive 4890 7 0x10581 ∷ drive 5290 0 0x00200 ∷ drive 5380 7 0x10000 ∷ drive 5380 0 0x02a00 ∷ drive 5780 0 0x06a00 ∷ drive 5780 7 0x001c0 ∷ drive 5870 7 0x081c0 ∷ drive 5870 0 0x02a00 ∷ drive 5870 7 0x00000 ∷ drive 5870 0 0x00a00 ∷ drive 6270 0 0x04a00 ∷ drive 6270 7 0x00008 ∷ drive 6325 7 0x08008 ∷ [])) 6325 ≡ Lawful
unfolding union_below seen_with line_of ones form_out form_in
set_up_in_time = refl

set_up_in_the_row : judged_whole (reverse (drive 1200 7 0x00280 ∷ drive 3600 7 0x00680 ∷ drive 4800 7 0x10781 ∷ drive 4890 7 0x10581 ∷ drive 5290 0 0x00200 ∷ drive 5380 7 0x10000 ∷ drive 5380 0 0x02a00 ∷ drive 5780 0 0x06a00 ∷ drive 5870 7 0x081c0 ∷ [])) 5870 ≡ Broken 9 19
unfolding union_below seen_with line_of ones form_out form_in
set_up_in_the_row = refl

data_in_changes : judged_whole (reverse (drive 1200 7 0x00280 ∷ drive 3600 7 0x00680 ∷ drive 4800 7 0x10781 ∷ drive 4890 7 0x10581 ∷ drive 5290 0 0x00200 ∷ drive 5380 7 0x10000 ∷ drive 5380 0 0x02a00 ∷ drive 5780 0 0x06a00 ∷ drive 5780 7 0x001c0 ∷ drive 5870 7 0x081c0 ∷ drive 5870 0 0x02a00 ∷ drive 5870 7 0x00000 ∷ drive 5870 0 0x00a00 ∷ drive 6270 0 0x04a00 ∷ drive 6270 7 0x00008 ∷ drive 6325 7 0x08008 ∷ drive 6325 0 0x00a00 ∷ drive 6325 7 0x00000 ∷ drive 6325 0 0x04a00 ∷ drive 6325 7 0x00100 ∷ drive 6380 7 0x08100 ∷ drive 6380 0 0x00a00 ∷ drive 6380 7 0x00000 ∷ drive 6380 0 0x04a00 ∷ drive 6380 7 0x00100 ∷ drive 6435 7 0x08100 ∷ drive 6435 0 0x00a00 ∷ drive 6435 7 0x00000 ∷ drive 6435 0 0x04a00 ∷ drive 6435 7 0x00100 ∷ drive 6490 7 0x08100 ∷ drive 6490 0 0x00a00 ∷ drive 6490 7 0x00000 ∷ drive 6490 0 0x04a00 ∷ drive 6490 7 0x00001 ∷ drive 6545 7 0x08001 ∷ drive 6545 0 0x00a00 ∷ drive 6545 7 0x00000 ∷ drive 6545 0 0x04a00 ∷ drive 6545 7 0x00100 ∷ drive 6600 7 0x08100 ∷ drive 6600 0 0x00a00 ∷ drive 6600 7 0x00000 ∷ drive 6600 0 0x01200 ∷ drive 7400 0 0x01300 ∷ drive 7455 0 0x05300 ∷ drive 7455 0 0x05301 ∷ [])) 7455 ≡ Broken 47 20
unfolding union_below seen_with line_of ones form_out form_in
data_in_changes = refl

data_in_changes_later : judged_whole (reverse (drive 1200 7 0x00280 ∷ drive 3600 7 0x00680 ∷ drive 4800 7 0x10781 ∷ drive 4890 7 0x10581 ∷ drive 5290 0 0x00200 ∷ drive 5380 7 0x10000 ∷ drive 5380 0 0x02a00 ∷ drive 5780 0 0x06a00 ∷ drive 5780 7 0x001c0 ∷ drive 5870 7 0x081c0 ∷ drive 5870 0 0x02a00 ∷ drive 5870 7 0x00000 ∷ drive 5870 0 0x00a00 ∷ drive 6270 0 0x04a00 ∷ drive 6270 7 0x00008 ∷ drive 6325 7 0x08008 ∷ drive 6325 0 0x00a00 ∷ drive 6325 7 0x00000 ∷ drive 6325 0 0x04a00 ∷ drive 6325 7 0x00100 ∷ drive 6380 7 0x08100 ∷ drive 6380 0 0x00a00 ∷ drive 6380 7 0x00000 ∷ drive 6380 0 0x04a00 ∷ drive 6380 7 0x00100 ∷ drive 6435 7 0x08100 ∷ drive 6435 0 0x00a00 ∷ drive 6435 7 0x00000 ∷ drive 6435 0 0x04a00 ∷ drive 6435 7 0x00100 ∷ drive 6490 7 0x08100 ∷ drive 6490 0 0x00a00 ∷ drive 6490 7 0x00000 ∷ drive 6490 0 0x04a00 ∷ drive 6490 7 0x00001 ∷ drive 6545 7 0x08001 ∷ drive 6545 0 0x00a00 ∷ drive 6545 7 0x00000 ∷ drive 6545 0 0x04a00 ∷ drive 6545 7 0x00100 ∷ drive 6600 7 0x08100 ∷ drive 6600 0 0x00a00 ∷ drive 6600 7 0x00000 ∷ drive 6600 0 0x01200 ∷ drive 7400 0 0x01300 ∷ drive 7455 0 0x05300 ∷ drive 7455 7 0x08000 ∷ drive 7455 0 0x01201 ∷ [])) 7455 ≡ Lawful
unfolding union_below seen_with line_of ones form_out form_in
data_in_changes_later = refl

data_out_changes : judged_whole (reverse (drive 1200 7 0x00280 ∷ drive 3600 7 0x00680 ∷ drive 4800 7 0x10781 ∷ drive 4890 7 0x10581 ∷ drive 5290 0 0x00200 ∷ drive 5380 7 0x10000 ∷ drive 5380 0 0x02a00 ∷ drive 5780 0 0x06a00 ∷ drive 5780 7 0x001c0 ∷ drive 5870 7 0x081c0 ∷ drive 5870 0 0x02a00 ∷ drive 5870 7 0x00000 ∷ drive 5870 0 0x00a00 ∷ drive 6270 0 0x04a00 ∷ drive 6270 7 0x00008 ∷ drive 6325 7 0x08008 ∷ drive 6330 7 0x08109 ∷ [])) 6330 ≡ Broken 17 20
unfolding union_below seen_with line_of ones form_out form_in
data_out_changes = refl

data_out_changes_later : judged_whole (reverse (drive 1200 7 0x00280 ∷ drive 3600 7 0x00680 ∷ drive 4800 7 0x10781 ∷ drive 4890 7 0x10581 ∷ drive 5290 0 0x00200 ∷ drive 5380 7 0x10000 ∷ drive 5380 0 0x02a00 ∷ drive 5780 0 0x06a00 ∷ drive 5780 7 0x001c0 ∷ drive 5870 7 0x081c0 ∷ drive 5870 0 0x02a00 ∷ drive 5870 7 0x00000 ∷ drive 5870 0 0x00a00 ∷ drive 6270 0 0x04a00 ∷ drive 6270 7 0x00008 ∷ drive 6325 7 0x08008 ∷ drive 6330 0 0x00a00 ∷ drive 6340 7 0x08109 ∷ [])) 6340 ≡ Lawful
unfolding union_below seen_with line_of ones form_out form_in
data_out_changes_later = refl

data_change_in_a_pulse : judged_whole (reverse (drive 1200 7 0x00280 ∷ drive 3600 7 0x00680 ∷ drive 4800 7 0x10781 ∷ drive 4890 7 0x10581 ∷ drive 5290 0 0x00200 ∷ drive 5380 7 0x10000 ∷ drive 5380 0 0x02a00 ∷ drive 5780 0 0x06a00 ∷ drive 5780 7 0x101c0 ∷ drive 5835 7 0x181c0 ∷ drive 5835 0 0x02a00 ∷ drive 5835 7 0x10000 ∷ drive 5835 0 0x06a00 ∷ drive 5835 7 0x10001 ∷ drive 5890 7 0x18001 ∷ drive 5890 0 0x02a00 ∷ drive 5890 7 0x10000 ∷ drive 5890 0 0x06a00 ∷ drive 5890 7 0x10103 ∷ drive 5945 7 0x18103 ∷ drive 5945 0 0x02a00 ∷ drive 5945 7 0x10000 ∷ drive 5945 0 0x06a00 ∷ drive 5945 7 0x10001 ∷ drive 6000 7 0x18001 ∷ drive 6000 0 0x02a00 ∷ drive 6000 7 0x10000 ∷ drive 6000 0 0x06a00 ∷ drive 6000 7 0x10032 ∷ drive 6055 7 0x18032 ∷ drive 6055 0 0x02a00 ∷ drive 6055 7 0x10000 ∷ drive 6055 0 0x06a00 ∷ drive 6055 7 0x00008 ∷ drive 6145 7 0x08008 ∷ drive 6145 0 0x02a00 ∷ drive 6145 7 0x00000 ∷ drive 6145 0 0x03a00 ∷ drive 6945 0 0x03a01 ∷ drive 7000 0 0x07a01 ∷ drive 7000 7 0x08000 ∷ drive 7000 0 0x03a00 ∷ drive 7000 7 0x00000 ∷ drive 7000 0 0x03b03 ∷ drive 7055 0 0x07b03 ∷ drive 7055 7 0x08000 ∷ drive 7055 0 0x03a00 ∷ drive 7055 7 0x00000 ∷ drive 7055 0 0x03a01 ∷ drive 7110 0 0x07a01 ∷ drive 7110 7 0x08000 ∷ drive 7110 0 0x03a00 ∷ drive 7110 7 0x00000 ∷ drive 7110 0 0x03a32 ∷ drive 7165 0 0x07a32 ∷ drive 7165 7 0x08000 ∷ drive 7165 0 0x03a00 ∷ drive 7165 7 0x00000 ∷ drive 7165 0 0x03a08 ∷ drive 7220 0 0x07a08 ∷ drive 7220 7 0x08000 ∷ drive 7220 0 0x03a00 ∷ drive 7220 7 0x00000 ∷ drive 7220 0 0x00a00 ∷ drive 7620 0 0x04a00 ∷ drive 7620 7 0x00008 ∷ drive 7675 7 0x08008 ∷ drive 7675 0 0x00a00 ∷ drive 7675 7 0x00000 ∷ drive 7675 0 0x04a00 ∷ drive 7675 7 0x00100 ∷ drive 7730 7 0x08100 ∷ drive 7730 0 0x00a00 ∷ drive 7730 7 0x00000 ∷ drive 7730 0 0x04a00 ∷ drive 7730 7 0x00100 ∷ drive 7785 7 0x08100 ∷ drive 7785 0 0x00a00 ∷ drive 7785 7 0x00000 ∷ drive 7785 0 0x04a00 ∷ drive 7785 7 0x00100 ∷ drive 7840 7 0x08100 ∷ drive 7840 0 0x00a00 ∷ drive 7840 7 0x00000 ∷ drive 7840 0 0x04a00 ∷ drive 7840 7 0x00001 ∷ drive 7895 7 0x08001 ∷ drive 7895 0 0x00a00 ∷ drive 7895 7 0x00000 ∷ drive 7895 0 0x04a00 ∷ drive 7895 7 0x00100 ∷ drive 7950 7 0x08100 ∷ drive 7950 0 0x00a00 ∷ drive 7950 7 0x00000 ∷ drive 7950 0 0x01200 ∷ drive 8750 0 0x01201 ∷ drive 8805 0 0x05201 ∷ drive 8905 0 0x05202 ∷ drive 8995 0 0x01202 ∷ [])) 8995 ≡ Lawful
unfolding union_below seen_with line_of ones form_out form_in
data_change_in_a_pulse = refl

eight_ahead : judged_whole (reverse (drive 1200 7 0x00280 ∷ drive 3600 7 0x00680 ∷ drive 4800 7 0x10781 ∷ drive 4890 7 0x10581 ∷ drive 5290 0 0x00200 ∷ drive 5380 7 0x10000 ∷ drive 5380 0 0x02a00 ∷ drive 5780 0 0x06a00 ∷ drive 5780 7 0x101c0 ∷ drive 5835 7 0x181c0 ∷ drive 5835 0 0x02a00 ∷ drive 5835 7 0x10000 ∷ drive 5835 0 0x06a00 ∷ drive 5835 7 0x10001 ∷ drive 5890 7 0x18001 ∷ drive 5890 0 0x02a00 ∷ drive 5890 7 0x10000 ∷ drive 5890 0 0x06a00 ∷ drive 5890 7 0x10103 ∷ drive 5945 7 0x18103 ∷ drive 5945 0 0x02a00 ∷ drive 5945 7 0x10000 ∷ drive 5945 0 0x06a00 ∷ drive 5945 7 0x10001 ∷ drive 6000 7 0x18001 ∷ drive 6000 0 0x02a00 ∷ drive 6000 7 0x10000 ∷ drive 6000 0 0x06a00 ∷ drive 6000 7 0x10032 ∷ drive 6055 7 0x18032 ∷ drive 6055 0 0x02a00 ∷ drive 6055 7 0x10000 ∷ drive 6055 0 0x06a00 ∷ drive 6055 7 0x00008 ∷ drive 6145 7 0x08008 ∷ drive 6145 0 0x02a00 ∷ drive 6145 7 0x00000 ∷ drive 6145 0 0x03a00 ∷ drive 6945 0 0x03a01 ∷ drive 7000 0 0x07a01 ∷ drive 7000 7 0x08000 ∷ drive 7000 0 0x03a00 ∷ drive 7000 7 0x00000 ∷ drive 7000 0 0x03b03 ∷ drive 7055 0 0x07b03 ∷ drive 7055 7 0x08000 ∷ drive 7055 0 0x03a00 ∷ drive 7055 7 0x00000 ∷ drive 7055 0 0x03a01 ∷ drive 7110 0 0x07a01 ∷ drive 7110 7 0x08000 ∷ drive 7110 0 0x03a00 ∷ drive 7110 7 0x00000 ∷ drive 7110 0 0x03a32 ∷ drive 7165 0 0x07a32 ∷ drive 7165 7 0x08000 ∷ drive 7165 0 0x03a00 ∷ drive 7165 7 0x00000 ∷ drive 7165 0 0x03a08 ∷ drive 7220 0 0x07a08 ∷ drive 7220 7 0x08000 ∷ drive 7220 0 0x03a00 ∷ drive 7220 7 0x00000 ∷ drive 7220 0 0x00a00 ∷ drive 7620 0 0x04a00 ∷ drive 7620 7 0x00008 ∷ drive 7675 7 0x08008 ∷ drive 7675 0 0x00a00 ∷ drive 7675 7 0x00000 ∷ drive 7675 0 0x04a00 ∷ drive 7675 7 0x00100 ∷ drive 7730 7 0x08100 ∷ drive 7730 0 0x00a00 ∷ drive 7730 7 0x00000 ∷ drive 7730 0 0x04a00 ∷ drive 7730 7 0x00100 ∷ drive 7785 7 0x08100 ∷ drive 7785 0 0x00a00 ∷ drive 7785 7 0x00000 ∷ drive 7785 0 0x04a00 ∷ drive 7785 7 0x00100 ∷ drive 7840 7 0x08100 ∷ drive 7840 0 0x00a00 ∷ drive 7840 7 0x00000 ∷ drive 7840 0 0x04a00 ∷ drive 7840 7 0x00001 ∷ drive 7895 7 0x08001 ∷ drive 7895 0 0x00a00 ∷ drive 7895 7 0x00000 ∷ drive 7895 0 0x04a00 ∷ drive 7895 7 0x00100 ∷ drive 7950 7 0x08100 ∷ drive 7950 0 0x00a00 ∷ drive 7950 7 0x00000 ∷ drive 7950 0 0x01200 ∷ drive 8750 0 0x01201 ∷ drive 8805 0 0x05201 ∷ drive 8895 0 0x01201 ∷ drive 9005 0 0x05201 ∷ drive 9095 0 0x01201 ∷ drive 9205 0 0x05201 ∷ drive 9295 0 0x01201 ∷ drive 9405 0 0x05201 ∷ drive 9495 0 0x01201 ∷ drive 9605 0 0x05201 ∷ drive 9695 0 0x01201 ∷ drive 9805 0 0x05201 ∷ drive 9895 0 0x01201 ∷ drive 10005 0 0x05201 ∷ drive 10095 0 0x01201 ∷ drive 10205 0 0x05201 ∷ drive 10295 0 0x01201 ∷ [])) 10405 ≡ Lawful
unfolding union_below seen_with line_of ones form_out form_in
eight_ahead = refl

nine_ahead : judged_whole (reverse (drive 1200 7 0x00280 ∷ drive 3600 7 0x00680 ∷ drive 4800 7 0x10781 ∷ drive 4890 7 0x10581 ∷ drive 5290 0 0x00200 ∷ drive 5380 7 0x10000 ∷ drive 5380 0 0x02a00 ∷ drive 5780 0 0x06a00 ∷ drive 5780 7 0x101c0 ∷ drive 5835 7 0x181c0 ∷ drive 5835 0 0x02a00 ∷ drive 5835 7 0x10000 ∷ drive 5835 0 0x06a00 ∷ drive 5835 7 0x10001 ∷ drive 5890 7 0x18001 ∷ drive 5890 0 0x02a00 ∷ drive 5890 7 0x10000 ∷ drive 5890 0 0x06a00 ∷ drive 5890 7 0x10103 ∷ drive 5945 7 0x18103 ∷ drive 5945 0 0x02a00 ∷ drive 5945 7 0x10000 ∷ drive 5945 0 0x06a00 ∷ drive 5945 7 0x10001 ∷ drive 6000 7 0x18001 ∷ drive 6000 0 0x02a00 ∷ drive 6000 7 0x10000 ∷ drive 6000 0 0x06a00 ∷ drive 6000 7 0x10032 ∷ drive 6055 7 0x18032 ∷ drive 6055 0 0x02a00 ∷ drive 6055 7 0x10000 ∷ drive 6055 0 0x06a00 ∷ drive 6055 7 0x00008 ∷ drive 6145 7 0x08008 ∷ drive 6145 0 0x02a00 ∷ drive 6145 7 0x00000 ∷ drive 6145 0 0x03a00 ∷ drive 6945 0 0x03a01 ∷ drive 7000 0 0x07a01 ∷ drive 7000 7 0x08000 ∷ drive 7000 0 0x03a00 ∷ drive 7000 7 0x00000 ∷ drive 7000 0 0x03b03 ∷ drive 7055 0 0x07b03 ∷ drive 7055 7 0x08000 ∷ drive 7055 0 0x03a00 ∷ drive 7055 7 0x00000 ∷ drive 7055 0 0x03a01 ∷ drive 7110 0 0x07a01 ∷ drive 7110 7 0x08000 ∷ drive 7110 0 0x03a00 ∷ drive 7110 7 0x00000 ∷ drive 7110 0 0x03a32 ∷ drive 7165 0 0x07a32 ∷ drive 7165 7 0x08000 ∷ drive 7165 0 0x03a00 ∷ drive 7165 7 0x00000 ∷ drive 7165 0 0x03a08 ∷ drive 7220 0 0x07a08 ∷ drive 7220 7 0x08000 ∷ drive 7220 0 0x03a00 ∷ drive 7220 7 0x00000 ∷ drive 7220 0 0x00a00 ∷ drive 7620 0 0x04a00 ∷ drive 7620 7 0x00008 ∷ drive 7675 7 0x08008 ∷ drive 7675 0 0x00a00 ∷ drive 7675 7 0x00000 ∷ drive 7675 0 0x04a00 ∷ drive 7675 7 0x00100 ∷ drive 7730 7 0x08100 ∷ drive 7730 0 0x00a00 ∷ drive 7730 7 0x00000 ∷ drive 7730 0 0x04a00 ∷ drive 7730 7 0x00100 ∷ drive 7785 7 0x08100 ∷ drive 7785 0 0x00a00 ∷ drive 7785 7 0x00000 ∷ drive 7785 0 0x04a00 ∷ drive 7785 7 0x00100 ∷ drive 7840 7 0x08100 ∷ drive 7840 0 0x00a00 ∷ drive 7840 7 0x00000 ∷ drive 7840 0 0x04a00 ∷ drive 7840 7 0x00001 ∷ drive 7895 7 0x08001 ∷ drive 7895 0 0x00a00 ∷ drive 7895 7 0x00000 ∷ drive 7895 0 0x04a00 ∷ drive 7895 7 0x00100 ∷ drive 7950 7 0x08100 ∷ drive 7950 0 0x00a00 ∷ drive 7950 7 0x00000 ∷ drive 7950 0 0x01200 ∷ drive 8750 0 0x01201 ∷ drive 8805 0 0x05201 ∷ drive 8895 0 0x01201 ∷ drive 9005 0 0x05201 ∷ drive 9095 0 0x01201 ∷ drive 9205 0 0x05201 ∷ drive 9295 0 0x01201 ∷ drive 9405 0 0x05201 ∷ drive 9495 0 0x01201 ∷ drive 9605 0 0x05201 ∷ drive 9695 0 0x01201 ∷ drive 9805 0 0x05201 ∷ drive 9895 0 0x01201 ∷ drive 10005 0 0x05201 ∷ drive 10095 0 0x01201 ∷ drive 10205 0 0x05201 ∷ drive 10295 0 0x01201 ∷ drive 10405 0 0x05201 ∷ drive 10495 0 0x01201 ∷ [])) 10605 ≡ Broken 113 21
unfolding union_below seen_with line_of ones form_out form_in
nine_ahead = refl

acknowledges_ahead : judged_whole (reverse (drive 1200 7 0x00280 ∷ drive 3600 7 0x00680 ∷ drive 4800 7 0x10781 ∷ drive 4890 7 0x10581 ∷ drive 5290 0 0x00200 ∷ drive 5380 7 0x10000 ∷ drive 5380 0 0x02a00 ∷ drive 5780 0 0x06a00 ∷ drive 5780 7 0x101c0 ∷ drive 5835 7 0x181c0 ∷ drive 5835 0 0x02a00 ∷ drive 5835 7 0x10000 ∷ drive 5835 0 0x06a00 ∷ drive 5835 7 0x10001 ∷ drive 5890 7 0x18001 ∷ drive 5890 0 0x02a00 ∷ drive 5890 7 0x10000 ∷ drive 5890 0 0x06a00 ∷ drive 5890 7 0x10103 ∷ drive 5945 7 0x18103 ∷ drive 5945 0 0x02a00 ∷ drive 5945 7 0x10000 ∷ drive 5945 0 0x06a00 ∷ drive 5945 7 0x10001 ∷ drive 6000 7 0x18001 ∷ drive 6000 0 0x02a00 ∷ drive 6000 7 0x10000 ∷ drive 6000 0 0x06a00 ∷ drive 6000 7 0x10032 ∷ drive 6055 7 0x18032 ∷ drive 6055 0 0x02a00 ∷ drive 6055 7 0x10000 ∷ drive 6055 0 0x06a00 ∷ drive 6055 7 0x00008 ∷ drive 6145 7 0x08008 ∷ drive 6145 0 0x02a00 ∷ drive 6145 7 0x00000 ∷ drive 6145 0 0x03a00 ∷ drive 6945 0 0x03a01 ∷ drive 7000 0 0x07a01 ∷ drive 7000 7 0x08000 ∷ drive 7000 0 0x03a00 ∷ drive 7000 7 0x00000 ∷ drive 7000 0 0x03b03 ∷ drive 7055 0 0x07b03 ∷ drive 7055 7 0x08000 ∷ drive 7055 0 0x03a00 ∷ drive 7055 7 0x00000 ∷ drive 7055 0 0x03a01 ∷ drive 7110 0 0x07a01 ∷ drive 7110 7 0x08000 ∷ drive 7110 0 0x03a00 ∷ drive 7110 7 0x00000 ∷ drive 7110 0 0x03a32 ∷ drive 7165 0 0x07a32 ∷ drive 7165 7 0x08000 ∷ drive 7165 0 0x03a00 ∷ drive 7165 7 0x00000 ∷ drive 7165 0 0x03a08 ∷ drive 7220 0 0x07a08 ∷ drive 7220 7 0x08000 ∷ drive 7220 0 0x03a00 ∷ drive 7220 7 0x00000 ∷ drive 7220 0 0x00a00 ∷ drive 7620 0 0x04a00 ∷ drive 7620 7 0x00008 ∷ drive 7675 7 0x08008 ∷ drive 7675 0 0x00a00 ∷ drive 7675 7 0x00000 ∷ drive 7675 0 0x04a00 ∷ drive 7675 7 0x00100 ∷ drive 7730 7 0x08100 ∷ drive 7730 0 0x00a00 ∷ drive 7730 7 0x00000 ∷ drive 7730 0 0x04a00 ∷ drive 7730 7 0x00100 ∷ drive 7785 7 0x08100 ∷ drive 7785 0 0x00a00 ∷ drive 7785 7 0x00000 ∷ drive 7785 0 0x04a00 ∷ drive 7785 7 0x00100 ∷ drive 7840 7 0x08100 ∷ drive 7840 0 0x00a00 ∷ drive 7840 7 0x00000 ∷ drive 7840 0 0x04a00 ∷ drive 7840 7 0x00001 ∷ drive 7895 7 0x08001 ∷ drive 7895 0 0x00a00 ∷ drive 7895 7 0x00000 ∷ drive 7895 0 0x04a00 ∷ drive 7895 7 0x00100 ∷ drive 7950 7 0x08100 ∷ drive 7950 0 0x00a00 ∷ drive 7950 7 0x00000 ∷ drive 7950 0 0x01200 ∷ drive 8850 7 0x08000 ∷ [])) 8850 ≡ Broken 96 21
unfolding union_below seen_with line_of ones form_out form_in
acknowledges_ahead = refl

no_limit : judged_whole (reverse (drive 1200 7 0x00280 ∷ drive 3600 7 0x00680 ∷ drive 4800 7 0x10781 ∷ drive 4890 7 0x10581 ∷ drive 5290 0 0x00200 ∷ drive 5380 7 0x10000 ∷ drive 5380 0 0x02a00 ∷ drive 5780 0 0x06a00 ∷ drive 5780 7 0x101c0 ∷ drive 5835 7 0x181c0 ∷ drive 5835 0 0x02a00 ∷ drive 5835 7 0x10000 ∷ drive 5835 0 0x06a00 ∷ drive 5835 7 0x10001 ∷ drive 5890 7 0x18001 ∷ drive 5890 0 0x02a00 ∷ drive 5890 7 0x10000 ∷ drive 5890 0 0x06a00 ∷ drive 5890 7 0x10103 ∷ drive 5945 7 0x18103 ∷ drive 5945 0 0x02a00 ∷ drive 5945 7 0x10000 ∷ drive 5945 0 0x06a00 ∷ drive 5945 7 0x10001 ∷ drive 6000 7 0x18001 ∷ drive 6000 0 0x02a00 ∷ drive 6000 7 0x10000 ∷ drive 6000 0 0x06a00 ∷ drive 6000 7 0x10032 ∷ drive 6055 7 0x18032 ∷ drive 6055 0 0x02a00 ∷ drive 6055 7 0x10000 ∷ drive 6055 0 0x06a00 ∷ drive 6055 7 0x001ff ∷ drive 6145 7 0x081ff ∷ drive 6145 0 0x02a00 ∷ drive 6145 7 0x00000 ∷ drive 6145 0 0x03a00 ∷ drive 6945 0 0x03a01 ∷ drive 7000 0 0x07a01 ∷ drive 7000 7 0x08000 ∷ drive 7000 0 0x03a00 ∷ drive 7000 7 0x00000 ∷ drive 7000 0 0x03b03 ∷ drive 7055 0 0x07b03 ∷ drive 7055 7 0x08000 ∷ drive 7055 0 0x03a00 ∷ drive 7055 7 0x00000 ∷ drive 7055 0 0x03a01 ∷ drive 7110 0 0x07a01 ∷ drive 7110 7 0x08000 ∷ drive 7110 0 0x03a00 ∷ drive 7110 7 0x00000 ∷ drive 7110 0 0x03a32 ∷ drive 7165 0 0x07a32 ∷ drive 7165 7 0x08000 ∷ drive 7165 0 0x03a00 ∷ drive 7165 7 0x00000 ∷ drive 7165 0 0x03bff ∷ drive 7220 0 0x07bff ∷ drive 7220 7 0x08000 ∷ drive 7220 0 0x03a00 ∷ drive 7220 7 0x00000 ∷ drive 7220 0 0x00a00 ∷ drive 7620 0 0x04a00 ∷ drive 7620 7 0x00008 ∷ drive 7675 7 0x08008 ∷ drive 7675 0 0x00a00 ∷ drive 7675 7 0x00000 ∷ drive 7675 0 0x04a00 ∷ drive 7675 7 0x00100 ∷ drive 7730 7 0x08100 ∷ drive 7730 0 0x00a00 ∷ drive 7730 7 0x00000 ∷ drive 7730 0 0x04a00 ∷ drive 7730 7 0x00100 ∷ drive 7785 7 0x08100 ∷ drive 7785 0 0x00a00 ∷ drive 7785 7 0x00000 ∷ drive 7785 0 0x04a00 ∷ drive 7785 7 0x00100 ∷ drive 7840 7 0x08100 ∷ drive 7840 0 0x00a00 ∷ drive 7840 7 0x00000 ∷ drive 7840 0 0x04a00 ∷ drive 7840 7 0x00001 ∷ drive 7895 7 0x08001 ∷ drive 7895 0 0x00a00 ∷ drive 7895 7 0x00000 ∷ drive 7895 0 0x04a00 ∷ drive 7895 7 0x00100 ∷ drive 7950 7 0x08100 ∷ drive 7950 0 0x00a00 ∷ drive 7950 7 0x00000 ∷ drive 7950 0 0x01200 ∷ drive 8750 0 0x01201 ∷ drive 8805 0 0x05201 ∷ drive 8895 0 0x01201 ∷ drive 9005 0 0x05201 ∷ drive 9095 0 0x01201 ∷ drive 9205 0 0x05201 ∷ drive 9295 0 0x01201 ∷ drive 9405 0 0x05201 ∷ drive 9495 0 0x01201 ∷ drive 9605 0 0x05201 ∷ drive 9695 0 0x01201 ∷ drive 9805 0 0x05201 ∷ drive 9895 0 0x01201 ∷ drive 10005 0 0x05201 ∷ drive 10095 0 0x01201 ∷ drive 10205 0 0x05201 ∷ drive 10295 0 0x01201 ∷ drive 10405 0 0x05201 ∷ drive 10495 0 0x01201 ∷ [])) 10605 ≡ Lawful
unfolding union_below seen_with line_of ones form_out form_in
no_limit = refl

two_ahead_of_one : judged_whole (reverse (drive 1200 7 0x00280 ∷ drive 3600 7 0x00680 ∷ drive 4800 7 0x10781 ∷ drive 4890 7 0x10581 ∷ drive 5290 0 0x00200 ∷ drive 5380 7 0x10000 ∷ drive 5380 0 0x02a00 ∷ drive 5780 0 0x06a00 ∷ drive 5780 7 0x101c0 ∷ drive 5835 7 0x181c0 ∷ drive 5835 0 0x02a00 ∷ drive 5835 7 0x10000 ∷ drive 5835 0 0x06a00 ∷ drive 5835 7 0x10001 ∷ drive 5890 7 0x18001 ∷ drive 5890 0 0x02a00 ∷ drive 5890 7 0x10000 ∷ drive 5890 0 0x06a00 ∷ drive 5890 7 0x10103 ∷ drive 5945 7 0x18103 ∷ drive 5945 0 0x02a00 ∷ drive 5945 7 0x10000 ∷ drive 5945 0 0x06a00 ∷ drive 5945 7 0x10001 ∷ drive 6000 7 0x18001 ∷ drive 6000 0 0x02a00 ∷ drive 6000 7 0x10000 ∷ drive 6000 0 0x06a00 ∷ drive 6000 7 0x10032 ∷ drive 6055 7 0x18032 ∷ drive 6055 0 0x02a00 ∷ drive 6055 7 0x10000 ∷ drive 6055 0 0x06a00 ∷ drive 6055 7 0x00001 ∷ drive 6145 7 0x08001 ∷ drive 6145 0 0x02a00 ∷ drive 6145 7 0x00000 ∷ drive 6145 0 0x03a00 ∷ drive 6945 0 0x03a01 ∷ drive 7000 0 0x07a01 ∷ drive 7000 7 0x08000 ∷ drive 7000 0 0x03a00 ∷ drive 7000 7 0x00000 ∷ drive 7000 0 0x03b03 ∷ drive 7055 0 0x07b03 ∷ drive 7055 7 0x08000 ∷ drive 7055 0 0x03a00 ∷ drive 7055 7 0x00000 ∷ drive 7055 0 0x03a01 ∷ drive 7110 0 0x07a01 ∷ drive 7110 7 0x08000 ∷ drive 7110 0 0x03a00 ∷ drive 7110 7 0x00000 ∷ drive 7110 0 0x03a32 ∷ drive 7165 0 0x07a32 ∷ drive 7165 7 0x08000 ∷ drive 7165 0 0x03a00 ∷ drive 7165 7 0x00000 ∷ drive 7165 0 0x03a01 ∷ drive 7220 0 0x07a01 ∷ drive 7220 7 0x08000 ∷ drive 7220 0 0x03a00 ∷ drive 7220 7 0x00000 ∷ drive 7220 0 0x00a00 ∷ drive 7620 0 0x04a00 ∷ drive 7620 7 0x00008 ∷ drive 7675 7 0x08008 ∷ drive 7675 0 0x00a00 ∷ drive 7675 7 0x00000 ∷ drive 7675 0 0x04a00 ∷ drive 7675 7 0x00100 ∷ drive 7730 7 0x08100 ∷ drive 7730 0 0x00a00 ∷ drive 7730 7 0x00000 ∷ drive 7730 0 0x04a00 ∷ drive 7730 7 0x00100 ∷ drive 7785 7 0x08100 ∷ drive 7785 0 0x00a00 ∷ drive 7785 7 0x00000 ∷ drive 7785 0 0x04a00 ∷ drive 7785 7 0x00100 ∷ drive 7840 7 0x08100 ∷ drive 7840 0 0x00a00 ∷ drive 7840 7 0x00000 ∷ drive 7840 0 0x04a00 ∷ drive 7840 7 0x00001 ∷ drive 7895 7 0x08001 ∷ drive 7895 0 0x00a00 ∷ drive 7895 7 0x00000 ∷ drive 7895 0 0x04a00 ∷ drive 7895 7 0x00100 ∷ drive 7950 7 0x08100 ∷ drive 7950 0 0x00a00 ∷ drive 7950 7 0x00000 ∷ drive 7950 0 0x01200 ∷ drive 8750 0 0x01201 ∷ drive 8805 0 0x05201 ∷ drive 8895 0 0x01201 ∷ drive 9005 0 0x05201 ∷ [])) 9005 ≡ Broken 99 21
unfolding union_below seen_with line_of ones form_out form_in
two_ahead_of_one = refl

one_answered : judged_whole (reverse (drive 1200 7 0x00280 ∷ drive 3600 7 0x00680 ∷ drive 4800 7 0x10781 ∷ drive 4890 7 0x10581 ∷ drive 5290 0 0x00200 ∷ drive 5380 7 0x10000 ∷ drive 5380 0 0x02a00 ∷ drive 5780 0 0x06a00 ∷ drive 5780 7 0x101c0 ∷ drive 5835 7 0x181c0 ∷ drive 5835 0 0x02a00 ∷ drive 5835 7 0x10000 ∷ drive 5835 0 0x06a00 ∷ drive 5835 7 0x10001 ∷ drive 5890 7 0x18001 ∷ drive 5890 0 0x02a00 ∷ drive 5890 7 0x10000 ∷ drive 5890 0 0x06a00 ∷ drive 5890 7 0x10103 ∷ drive 5945 7 0x18103 ∷ drive 5945 0 0x02a00 ∷ drive 5945 7 0x10000 ∷ drive 5945 0 0x06a00 ∷ drive 5945 7 0x10001 ∷ drive 6000 7 0x18001 ∷ drive 6000 0 0x02a00 ∷ drive 6000 7 0x10000 ∷ drive 6000 0 0x06a00 ∷ drive 6000 7 0x10032 ∷ drive 6055 7 0x18032 ∷ drive 6055 0 0x02a00 ∷ drive 6055 7 0x10000 ∷ drive 6055 0 0x06a00 ∷ drive 6055 7 0x00001 ∷ drive 6145 7 0x08001 ∷ drive 6145 0 0x02a00 ∷ drive 6145 7 0x00000 ∷ drive 6145 0 0x03a00 ∷ drive 6945 0 0x03a01 ∷ drive 7000 0 0x07a01 ∷ drive 7000 7 0x08000 ∷ drive 7000 0 0x03a00 ∷ drive 7000 7 0x00000 ∷ drive 7000 0 0x03b03 ∷ drive 7055 0 0x07b03 ∷ drive 7055 7 0x08000 ∷ drive 7055 0 0x03a00 ∷ drive 7055 7 0x00000 ∷ drive 7055 0 0x03a01 ∷ drive 7110 0 0x07a01 ∷ drive 7110 7 0x08000 ∷ drive 7110 0 0x03a00 ∷ drive 7110 7 0x00000 ∷ drive 7110 0 0x03a32 ∷ drive 7165 0 0x07a32 ∷ drive 7165 7 0x08000 ∷ drive 7165 0 0x03a00 ∷ drive 7165 7 0x00000 ∷ drive 7165 0 0x03a01 ∷ drive 7220 0 0x07a01 ∷ drive 7220 7 0x08000 ∷ drive 7220 0 0x03a00 ∷ drive 7220 7 0x00000 ∷ drive 7220 0 0x00a00 ∷ drive 7620 0 0x04a00 ∷ drive 7620 7 0x00008 ∷ drive 7675 7 0x08008 ∷ drive 7675 0 0x00a00 ∷ drive 7675 7 0x00000 ∷ drive 7675 0 0x04a00 ∷ drive 7675 7 0x00100 ∷ drive 7730 7 0x08100 ∷ drive 7730 0 0x00a00 ∷ drive 7730 7 0x00000 ∷ drive 7730 0 0x04a00 ∷ drive 7730 7 0x00100 ∷ drive 7785 7 0x08100 ∷ drive 7785 0 0x00a00 ∷ drive 7785 7 0x00000 ∷ drive 7785 0 0x04a00 ∷ drive 7785 7 0x00100 ∷ drive 7840 7 0x08100 ∷ drive 7840 0 0x00a00 ∷ drive 7840 7 0x00000 ∷ drive 7840 0 0x04a00 ∷ drive 7840 7 0x00001 ∷ drive 7895 7 0x08001 ∷ drive 7895 0 0x00a00 ∷ drive 7895 7 0x00000 ∷ drive 7895 0 0x04a00 ∷ drive 7895 7 0x00100 ∷ drive 7950 7 0x08100 ∷ drive 7950 0 0x00a00 ∷ drive 7950 7 0x00000 ∷ drive 7950 0 0x01200 ∷ drive 8750 0 0x01201 ∷ drive 8805 0 0x05201 ∷ drive 8895 0 0x01201 ∷ drive 8900 7 0x08000 ∷ drive 8990 7 0x00000 ∷ drive 9005 0 0x05201 ∷ [])) 9005 ≡ Lawful
unfolding union_below seen_with line_of ones form_out form_in
one_answered = refl

period_short : judged_whole (reverse (drive 1200 7 0x00280 ∷ drive 3600 7 0x00680 ∷ drive 4800 7 0x10781 ∷ drive 4890 7 0x10581 ∷ drive 5290 0 0x00200 ∷ drive 5380 7 0x10000 ∷ drive 5380 0 0x02a00 ∷ drive 5780 0 0x06a00 ∷ drive 5780 7 0x101c0 ∷ drive 5835 7 0x181c0 ∷ drive 5835 0 0x02a00 ∷ drive 5835 7 0x10000 ∷ drive 5835 0 0x06a00 ∷ drive 5835 7 0x10001 ∷ drive 5890 7 0x18001 ∷ drive 5890 0 0x02a00 ∷ drive 5890 7 0x10000 ∷ drive 5890 0 0x06a00 ∷ drive 5890 7 0x10103 ∷ drive 5945 7 0x18103 ∷ drive 5945 0 0x02a00 ∷ drive 5945 7 0x10000 ∷ drive 5945 0 0x06a00 ∷ drive 5945 7 0x10001 ∷ drive 6000 7 0x18001 ∷ drive 6000 0 0x02a00 ∷ drive 6000 7 0x10000 ∷ drive 6000 0 0x06a00 ∷ drive 6000 7 0x10032 ∷ drive 6055 7 0x18032 ∷ drive 6055 0 0x02a00 ∷ drive 6055 7 0x10000 ∷ drive 6055 0 0x06a00 ∷ drive 6055 7 0x00008 ∷ drive 6145 7 0x08008 ∷ drive 6145 0 0x02a00 ∷ drive 6145 7 0x00000 ∷ drive 6145 0 0x03a00 ∷ drive 6945 0 0x03a01 ∷ drive 7000 0 0x07a01 ∷ drive 7000 7 0x08000 ∷ drive 7000 0 0x03a00 ∷ drive 7000 7 0x00000 ∷ drive 7000 0 0x03b03 ∷ drive 7055 0 0x07b03 ∷ drive 7055 7 0x08000 ∷ drive 7055 0 0x03a00 ∷ drive 7055 7 0x00000 ∷ drive 7055 0 0x03a01 ∷ drive 7110 0 0x07a01 ∷ drive 7110 7 0x08000 ∷ drive 7110 0 0x03a00 ∷ drive 7110 7 0x00000 ∷ drive 7110 0 0x03a32 ∷ drive 7165 0 0x07a32 ∷ drive 7165 7 0x08000 ∷ drive 7165 0 0x03a00 ∷ drive 7165 7 0x00000 ∷ drive 7165 0 0x03a08 ∷ drive 7220 0 0x07a08 ∷ drive 7220 7 0x08000 ∷ drive 7220 0 0x03a00 ∷ drive 7220 7 0x00000 ∷ drive 7220 0 0x00a00 ∷ drive 7620 0 0x04a00 ∷ drive 7620 7 0x00008 ∷ drive 7675 7 0x08008 ∷ drive 7675 0 0x00a00 ∷ drive 7675 7 0x00000 ∷ drive 7675 0 0x04a00 ∷ drive 7675 7 0x00100 ∷ drive 7730 7 0x08100 ∷ drive 7730 0 0x00a00 ∷ drive 7730 7 0x00000 ∷ drive 7730 0 0x04a00 ∷ drive 7730 7 0x00100 ∷ drive 7785 7 0x08100 ∷ drive 7785 0 0x00a00 ∷ drive 7785 7 0x00000 ∷ drive 7785 0 0x04a00 ∷ drive 7785 7 0x00100 ∷ drive 7840 7 0x08100 ∷ drive 7840 0 0x00a00 ∷ drive 7840 7 0x00000 ∷ drive 7840 0 0x04a00 ∷ drive 7840 7 0x00001 ∷ drive 7895 7 0x08001 ∷ drive 7895 0 0x00a00 ∷ drive 7895 7 0x00000 ∷ drive 7895 0 0x04a00 ∷ drive 7895 7 0x00100 ∷ drive 7950 7 0x08100 ∷ drive 7950 0 0x00a00 ∷ drive 7950 7 0x00000 ∷ drive 7950 0 0x01200 ∷ drive 8750 0 0x01201 ∷ drive 8805 0 0x05201 ∷ drive 8895 0 0x01201 ∷ drive 9004 0 0x05201 ∷ [])) 9004 ≡ Broken 99 22
unfolding union_below seen_with line_of ones form_out form_in
period_short = refl

period_kept : judged_whole (reverse (drive 1200 7 0x00280 ∷ drive 3600 7 0x00680 ∷ drive 4800 7 0x10781 ∷ drive 4890 7 0x10581 ∷ drive 5290 0 0x00200 ∷ drive 5380 7 0x10000 ∷ drive 5380 0 0x02a00 ∷ drive 5780 0 0x06a00 ∷ drive 5780 7 0x101c0 ∷ drive 5835 7 0x181c0 ∷ drive 5835 0 0x02a00 ∷ drive 5835 7 0x10000 ∷ drive 5835 0 0x06a00 ∷ drive 5835 7 0x10001 ∷ drive 5890 7 0x18001 ∷ drive 5890 0 0x02a00 ∷ drive 5890 7 0x10000 ∷ drive 5890 0 0x06a00 ∷ drive 5890 7 0x10103 ∷ drive 5945 7 0x18103 ∷ drive 5945 0 0x02a00 ∷ drive 5945 7 0x10000 ∷ drive 5945 0 0x06a00 ∷ drive 5945 7 0x10001 ∷ drive 6000 7 0x18001 ∷ drive 6000 0 0x02a00 ∷ drive 6000 7 0x10000 ∷ drive 6000 0 0x06a00 ∷ drive 6000 7 0x10032 ∷ drive 6055 7 0x18032 ∷ drive 6055 0 0x02a00 ∷ drive 6055 7 0x10000 ∷ drive 6055 0 0x06a00 ∷ drive 6055 7 0x00008 ∷ drive 6145 7 0x08008 ∷ drive 6145 0 0x02a00 ∷ drive 6145 7 0x00000 ∷ drive 6145 0 0x03a00 ∷ drive 6945 0 0x03a01 ∷ drive 7000 0 0x07a01 ∷ drive 7000 7 0x08000 ∷ drive 7000 0 0x03a00 ∷ drive 7000 7 0x00000 ∷ drive 7000 0 0x03b03 ∷ drive 7055 0 0x07b03 ∷ drive 7055 7 0x08000 ∷ drive 7055 0 0x03a00 ∷ drive 7055 7 0x00000 ∷ drive 7055 0 0x03a01 ∷ drive 7110 0 0x07a01 ∷ drive 7110 7 0x08000 ∷ drive 7110 0 0x03a00 ∷ drive 7110 7 0x00000 ∷ drive 7110 0 0x03a32 ∷ drive 7165 0 0x07a32 ∷ drive 7165 7 0x08000 ∷ drive 7165 0 0x03a00 ∷ drive 7165 7 0x00000 ∷ drive 7165 0 0x03a08 ∷ drive 7220 0 0x07a08 ∷ drive 7220 7 0x08000 ∷ drive 7220 0 0x03a00 ∷ drive 7220 7 0x00000 ∷ drive 7220 0 0x00a00 ∷ drive 7620 0 0x04a00 ∷ drive 7620 7 0x00008 ∷ drive 7675 7 0x08008 ∷ drive 7675 0 0x00a00 ∷ drive 7675 7 0x00000 ∷ drive 7675 0 0x04a00 ∷ drive 7675 7 0x00100 ∷ drive 7730 7 0x08100 ∷ drive 7730 0 0x00a00 ∷ drive 7730 7 0x00000 ∷ drive 7730 0 0x04a00 ∷ drive 7730 7 0x00100 ∷ drive 7785 7 0x08100 ∷ drive 7785 0 0x00a00 ∷ drive 7785 7 0x00000 ∷ drive 7785 0 0x04a00 ∷ drive 7785 7 0x00100 ∷ drive 7840 7 0x08100 ∷ drive 7840 0 0x00a00 ∷ drive 7840 7 0x00000 ∷ drive 7840 0 0x04a00 ∷ drive 7840 7 0x00001 ∷ drive 7895 7 0x08001 ∷ drive 7895 0 0x00a00 ∷ drive 7895 7 0x00000 ∷ drive 7895 0 0x04a00 ∷ drive 7895 7 0x00100 ∷ drive 7950 7 0x08100 ∷ drive 7950 0 0x00a00 ∷ drive 7950 7 0x00000 ∷ drive 7950 0 0x01200 ∷ drive 8750 0 0x01201 ∷ drive 8805 0 0x05201 ∷ drive 8895 0 0x01201 ∷ drive 9005 0 0x05201 ∷ [])) 9005 ≡ Lawful
unfolding union_below seen_with line_of ones form_out form_in
period_kept = refl

pulse_short : judged_whole (reverse (drive 1200 7 0x00280 ∷ drive 3600 7 0x00680 ∷ drive 4800 7 0x10781 ∷ drive 4890 7 0x10581 ∷ drive 5290 0 0x00200 ∷ drive 5380 7 0x10000 ∷ drive 5380 0 0x02a00 ∷ drive 5780 0 0x06a00 ∷ drive 5780 7 0x101c0 ∷ drive 5835 7 0x181c0 ∷ drive 5835 0 0x02a00 ∷ drive 5835 7 0x10000 ∷ drive 5835 0 0x06a00 ∷ drive 5835 7 0x10001 ∷ drive 5890 7 0x18001 ∷ drive 5890 0 0x02a00 ∷ drive 5890 7 0x10000 ∷ drive 5890 0 0x06a00 ∷ drive 5890 7 0x10103 ∷ drive 5945 7 0x18103 ∷ drive 5945 0 0x02a00 ∷ drive 5945 7 0x10000 ∷ drive 5945 0 0x06a00 ∷ drive 5945 7 0x10001 ∷ drive 6000 7 0x18001 ∷ drive 6000 0 0x02a00 ∷ drive 6000 7 0x10000 ∷ drive 6000 0 0x06a00 ∷ drive 6000 7 0x10032 ∷ drive 6055 7 0x18032 ∷ drive 6055 0 0x02a00 ∷ drive 6055 7 0x10000 ∷ drive 6055 0 0x06a00 ∷ drive 6055 7 0x00008 ∷ drive 6145 7 0x08008 ∷ drive 6145 0 0x02a00 ∷ drive 6145 7 0x00000 ∷ drive 6145 0 0x03a00 ∷ drive 6945 0 0x03a01 ∷ drive 7000 0 0x07a01 ∷ drive 7000 7 0x08000 ∷ drive 7000 0 0x03a00 ∷ drive 7000 7 0x00000 ∷ drive 7000 0 0x03b03 ∷ drive 7055 0 0x07b03 ∷ drive 7055 7 0x08000 ∷ drive 7055 0 0x03a00 ∷ drive 7055 7 0x00000 ∷ drive 7055 0 0x03a01 ∷ drive 7110 0 0x07a01 ∷ drive 7110 7 0x08000 ∷ drive 7110 0 0x03a00 ∷ drive 7110 7 0x00000 ∷ drive 7110 0 0x03a32 ∷ drive 7165 0 0x07a32 ∷ drive 7165 7 0x08000 ∷ drive 7165 0 0x03a00 ∷ drive 7165 7 0x00000 ∷ drive 7165 0 0x03a08 ∷ drive 7220 0 0x07a08 ∷ drive 7220 7 0x08000 ∷ drive 7220 0 0x03a00 ∷ drive 7220 7 0x00000 ∷ drive 7220 0 0x00a00 ∷ drive 7620 0 0x04a00 ∷ drive 7620 7 0x00008 ∷ drive 7675 7 0x08008 ∷ drive 7675 0 0x00a00 ∷ drive 7675 7 0x00000 ∷ drive 7675 0 0x04a00 ∷ drive 7675 7 0x00100 ∷ drive 7730 7 0x08100 ∷ drive 7730 0 0x00a00 ∷ drive 7730 7 0x00000 ∷ drive 7730 0 0x04a00 ∷ drive 7730 7 0x00100 ∷ drive 7785 7 0x08100 ∷ drive 7785 0 0x00a00 ∷ drive 7785 7 0x00000 ∷ drive 7785 0 0x04a00 ∷ drive 7785 7 0x00100 ∷ drive 7840 7 0x08100 ∷ drive 7840 0 0x00a00 ∷ drive 7840 7 0x00000 ∷ drive 7840 0 0x04a00 ∷ drive 7840 7 0x00001 ∷ drive 7895 7 0x08001 ∷ drive 7895 0 0x00a00 ∷ drive 7895 7 0x00000 ∷ drive 7895 0 0x04a00 ∷ drive 7895 7 0x00100 ∷ drive 7950 7 0x08100 ∷ drive 7950 0 0x00a00 ∷ drive 7950 7 0x00000 ∷ drive 7950 0 0x01200 ∷ drive 8750 0 0x01201 ∷ drive 8805 0 0x05201 ∷ drive 8894 0 0x01201 ∷ [])) 8894 ≡ Broken 98 22
unfolding union_below seen_with line_of ones form_out form_in
pulse_short = refl

pulse_kept : judged_whole (reverse (drive 1200 7 0x00280 ∷ drive 3600 7 0x00680 ∷ drive 4800 7 0x10781 ∷ drive 4890 7 0x10581 ∷ drive 5290 0 0x00200 ∷ drive 5380 7 0x10000 ∷ drive 5380 0 0x02a00 ∷ drive 5780 0 0x06a00 ∷ drive 5780 7 0x101c0 ∷ drive 5835 7 0x181c0 ∷ drive 5835 0 0x02a00 ∷ drive 5835 7 0x10000 ∷ drive 5835 0 0x06a00 ∷ drive 5835 7 0x10001 ∷ drive 5890 7 0x18001 ∷ drive 5890 0 0x02a00 ∷ drive 5890 7 0x10000 ∷ drive 5890 0 0x06a00 ∷ drive 5890 7 0x10103 ∷ drive 5945 7 0x18103 ∷ drive 5945 0 0x02a00 ∷ drive 5945 7 0x10000 ∷ drive 5945 0 0x06a00 ∷ drive 5945 7 0x10001 ∷ drive 6000 7 0x18001 ∷ drive 6000 0 0x02a00 ∷ drive 6000 7 0x10000 ∷ drive 6000 0 0x06a00 ∷ drive 6000 7 0x10032 ∷ drive 6055 7 0x18032 ∷ drive 6055 0 0x02a00 ∷ drive 6055 7 0x10000 ∷ drive 6055 0 0x06a00 ∷ drive 6055 7 0x00008 ∷ drive 6145 7 0x08008 ∷ drive 6145 0 0x02a00 ∷ drive 6145 7 0x00000 ∷ drive 6145 0 0x03a00 ∷ drive 6945 0 0x03a01 ∷ drive 7000 0 0x07a01 ∷ drive 7000 7 0x08000 ∷ drive 7000 0 0x03a00 ∷ drive 7000 7 0x00000 ∷ drive 7000 0 0x03b03 ∷ drive 7055 0 0x07b03 ∷ drive 7055 7 0x08000 ∷ drive 7055 0 0x03a00 ∷ drive 7055 7 0x00000 ∷ drive 7055 0 0x03a01 ∷ drive 7110 0 0x07a01 ∷ drive 7110 7 0x08000 ∷ drive 7110 0 0x03a00 ∷ drive 7110 7 0x00000 ∷ drive 7110 0 0x03a32 ∷ drive 7165 0 0x07a32 ∷ drive 7165 7 0x08000 ∷ drive 7165 0 0x03a00 ∷ drive 7165 7 0x00000 ∷ drive 7165 0 0x03a08 ∷ drive 7220 0 0x07a08 ∷ drive 7220 7 0x08000 ∷ drive 7220 0 0x03a00 ∷ drive 7220 7 0x00000 ∷ drive 7220 0 0x00a00 ∷ drive 7620 0 0x04a00 ∷ drive 7620 7 0x00008 ∷ drive 7675 7 0x08008 ∷ drive 7675 0 0x00a00 ∷ drive 7675 7 0x00000 ∷ drive 7675 0 0x04a00 ∷ drive 7675 7 0x00100 ∷ drive 7730 7 0x08100 ∷ drive 7730 0 0x00a00 ∷ drive 7730 7 0x00000 ∷ drive 7730 0 0x04a00 ∷ drive 7730 7 0x00100 ∷ drive 7785 7 0x08100 ∷ drive 7785 0 0x00a00 ∷ drive 7785 7 0x00000 ∷ drive 7785 0 0x04a00 ∷ drive 7785 7 0x00100 ∷ drive 7840 7 0x08100 ∷ drive 7840 0 0x00a00 ∷ drive 7840 7 0x00000 ∷ drive 7840 0 0x04a00 ∷ drive 7840 7 0x00001 ∷ drive 7895 7 0x08001 ∷ drive 7895 0 0x00a00 ∷ drive 7895 7 0x00000 ∷ drive 7895 0 0x04a00 ∷ drive 7895 7 0x00100 ∷ drive 7950 7 0x08100 ∷ drive 7950 0 0x00a00 ∷ drive 7950 7 0x00000 ∷ drive 7950 0 0x01200 ∷ drive 8750 0 0x01201 ∷ drive 8805 0 0x05201 ∷ drive 8895 0 0x01201 ∷ [])) 8895 ≡ Lawful
unfolding union_below seen_with line_of ones form_out form_in
pulse_kept = refl

gap_short : judged_whole (reverse (drive 1200 7 0x00280 ∷ drive 3600 7 0x00680 ∷ drive 4800 7 0x10781 ∷ drive 4890 7 0x10581 ∷ drive 5290 0 0x00200 ∷ drive 5380 7 0x10000 ∷ drive 5380 0 0x02a00 ∷ drive 5780 0 0x06a00 ∷ drive 5780 7 0x101c0 ∷ drive 5835 7 0x181c0 ∷ drive 5835 0 0x02a00 ∷ drive 5835 7 0x10000 ∷ drive 5835 0 0x06a00 ∷ drive 5835 7 0x10001 ∷ drive 5890 7 0x18001 ∷ drive 5890 0 0x02a00 ∷ drive 5890 7 0x10000 ∷ drive 5890 0 0x06a00 ∷ drive 5890 7 0x10103 ∷ drive 5945 7 0x18103 ∷ drive 5945 0 0x02a00 ∷ drive 5945 7 0x10000 ∷ drive 5945 0 0x06a00 ∷ drive 5945 7 0x10001 ∷ drive 6000 7 0x18001 ∷ drive 6000 0 0x02a00 ∷ drive 6000 7 0x10000 ∷ drive 6000 0 0x06a00 ∷ drive 6000 7 0x10032 ∷ drive 6055 7 0x18032 ∷ drive 6055 0 0x02a00 ∷ drive 6055 7 0x10000 ∷ drive 6055 0 0x06a00 ∷ drive 6055 7 0x00008 ∷ drive 6145 7 0x08008 ∷ drive 6145 0 0x02a00 ∷ drive 6145 7 0x00000 ∷ drive 6145 0 0x03a00 ∷ drive 6945 0 0x03a01 ∷ drive 7000 0 0x07a01 ∷ drive 7000 7 0x08000 ∷ drive 7000 0 0x03a00 ∷ drive 7000 7 0x00000 ∷ drive 7000 0 0x03b03 ∷ drive 7055 0 0x07b03 ∷ drive 7055 7 0x08000 ∷ drive 7055 0 0x03a00 ∷ drive 7055 7 0x00000 ∷ drive 7055 0 0x03a01 ∷ drive 7110 0 0x07a01 ∷ drive 7110 7 0x08000 ∷ drive 7110 0 0x03a00 ∷ drive 7110 7 0x00000 ∷ drive 7110 0 0x03a32 ∷ drive 7165 0 0x07a32 ∷ drive 7165 7 0x08000 ∷ drive 7165 0 0x03a00 ∷ drive 7165 7 0x00000 ∷ drive 7165 0 0x03a08 ∷ drive 7220 0 0x07a08 ∷ drive 7220 7 0x08000 ∷ drive 7220 0 0x03a00 ∷ drive 7220 7 0x00000 ∷ drive 7220 0 0x00a00 ∷ drive 7620 0 0x04a00 ∷ drive 7620 7 0x00008 ∷ drive 7675 7 0x08008 ∷ drive 7675 0 0x00a00 ∷ drive 7675 7 0x00000 ∷ drive 7675 0 0x04a00 ∷ drive 7675 7 0x00100 ∷ drive 7730 7 0x08100 ∷ drive 7730 0 0x00a00 ∷ drive 7730 7 0x00000 ∷ drive 7730 0 0x04a00 ∷ drive 7730 7 0x00100 ∷ drive 7785 7 0x08100 ∷ drive 7785 0 0x00a00 ∷ drive 7785 7 0x00000 ∷ drive 7785 0 0x04a00 ∷ drive 7785 7 0x00100 ∷ drive 7840 7 0x08100 ∷ drive 7840 0 0x00a00 ∷ drive 7840 7 0x00000 ∷ drive 7840 0 0x04a00 ∷ drive 7840 7 0x00001 ∷ drive 7895 7 0x08001 ∷ drive 7895 0 0x00a00 ∷ drive 7895 7 0x00000 ∷ drive 7895 0 0x04a00 ∷ drive 7895 7 0x00100 ∷ drive 7950 7 0x08100 ∷ drive 7950 0 0x00a00 ∷ drive 7950 7 0x00000 ∷ drive 7950 0 0x01200 ∷ drive 8750 0 0x01201 ∷ drive 8805 0 0x05201 ∷ drive 8925 0 0x01201 ∷ drive 9014 0 0x05201 ∷ [])) 9014 ≡ Broken 99 22
unfolding union_below seen_with line_of ones form_out form_in
gap_short = refl

gap_kept : judged_whole (reverse (drive 1200 7 0x00280 ∷ drive 3600 7 0x00680 ∷ drive 4800 7 0x10781 ∷ drive 4890 7 0x10581 ∷ drive 5290 0 0x00200 ∷ drive 5380 7 0x10000 ∷ drive 5380 0 0x02a00 ∷ drive 5780 0 0x06a00 ∷ drive 5780 7 0x101c0 ∷ drive 5835 7 0x181c0 ∷ drive 5835 0 0x02a00 ∷ drive 5835 7 0x10000 ∷ drive 5835 0 0x06a00 ∷ drive 5835 7 0x10001 ∷ drive 5890 7 0x18001 ∷ drive 5890 0 0x02a00 ∷ drive 5890 7 0x10000 ∷ drive 5890 0 0x06a00 ∷ drive 5890 7 0x10103 ∷ drive 5945 7 0x18103 ∷ drive 5945 0 0x02a00 ∷ drive 5945 7 0x10000 ∷ drive 5945 0 0x06a00 ∷ drive 5945 7 0x10001 ∷ drive 6000 7 0x18001 ∷ drive 6000 0 0x02a00 ∷ drive 6000 7 0x10000 ∷ drive 6000 0 0x06a00 ∷ drive 6000 7 0x10032 ∷ drive 6055 7 0x18032 ∷ drive 6055 0 0x02a00 ∷ drive 6055 7 0x10000 ∷ drive 6055 0 0x06a00 ∷ drive 6055 7 0x00008 ∷ drive 6145 7 0x08008 ∷ drive 6145 0 0x02a00 ∷ drive 6145 7 0x00000 ∷ drive 6145 0 0x03a00 ∷ drive 6945 0 0x03a01 ∷ drive 7000 0 0x07a01 ∷ drive 7000 7 0x08000 ∷ drive 7000 0 0x03a00 ∷ drive 7000 7 0x00000 ∷ drive 7000 0 0x03b03 ∷ drive 7055 0 0x07b03 ∷ drive 7055 7 0x08000 ∷ drive 7055 0 0x03a00 ∷ drive 7055 7 0x00000 ∷ drive 7055 0 0x03a01 ∷ drive 7110 0 0x07a01 ∷ drive 7110 7 0x08000 ∷ drive 7110 0 0x03a00 ∷ drive 7110 7 0x00000 ∷ drive 7110 0 0x03a32 ∷ drive 7165 0 0x07a32 ∷ drive 7165 7 0x08000 ∷ drive 7165 0 0x03a00 ∷ drive 7165 7 0x00000 ∷ drive 7165 0 0x03a08 ∷ drive 7220 0 0x07a08 ∷ drive 7220 7 0x08000 ∷ drive 7220 0 0x03a00 ∷ drive 7220 7 0x00000 ∷ drive 7220 0 0x00a00 ∷ drive 7620 0 0x04a00 ∷ drive 7620 7 0x00008 ∷ drive 7675 7 0x08008 ∷ drive 7675 0 0x00a00 ∷ drive 7675 7 0x00000 ∷ drive 7675 0 0x04a00 ∷ drive 7675 7 0x00100 ∷ drive 7730 7 0x08100 ∷ drive 7730 0 0x00a00 ∷ drive 7730 7 0x00000 ∷ drive 7730 0 0x04a00 ∷ drive 7730 7 0x00100 ∷ drive 7785 7 0x08100 ∷ drive 7785 0 0x00a00 ∷ drive 7785 7 0x00000 ∷ drive 7785 0 0x04a00 ∷ drive 7785 7 0x00100 ∷ drive 7840 7 0x08100 ∷ drive 7840 0 0x00a00 ∷ drive 7840 7 0x00000 ∷ drive 7840 0 0x04a00 ∷ drive 7840 7 0x00001 ∷ drive 7895 7 0x08001 ∷ drive 7895 0 0x00a00 ∷ drive 7895 7 0x00000 ∷ drive 7895 0 0x04a00 ∷ drive 7895 7 0x00100 ∷ drive 7950 7 0x08100 ∷ drive 7950 0 0x00a00 ∷ drive 7950 7 0x00000 ∷ drive 7950 0 0x01200 ∷ drive 8750 0 0x01201 ∷ drive 8805 0 0x05201 ∷ drive 8925 0 0x01201 ∷ drive 9015 0 0x05201 ∷ [])) 9015 ≡ Lawful
unfolding union_below seen_with line_of ones form_out form_in
gap_kept = refl

set_up_54 : judged_whole (reverse (drive 1200 7 0x00280 ∷ drive 3600 7 0x00680 ∷ drive 4800 7 0x10781 ∷ drive 4890 7 0x10581 ∷ drive 5290 0 0x00200 ∷ drive 5380 7 0x10000 ∷ drive 5380 0 0x02a00 ∷ drive 5780 0 0x06a00 ∷ drive 5780 7 0x101c0 ∷ drive 5835 7 0x181c0 ∷ drive 5835 0 0x02a00 ∷ drive 5835 7 0x10000 ∷ drive 5835 0 0x06a00 ∷ drive 5835 7 0x10001 ∷ drive 5890 7 0x18001 ∷ drive 5890 0 0x02a00 ∷ drive 5890 7 0x10000 ∷ drive 5890 0 0x06a00 ∷ drive 5890 7 0x10103 ∷ drive 5945 7 0x18103 ∷ drive 5945 0 0x02a00 ∷ drive 5945 7 0x10000 ∷ drive 5945 0 0x06a00 ∷ drive 5945 7 0x10001 ∷ drive 6000 7 0x18001 ∷ drive 6000 0 0x02a00 ∷ drive 6000 7 0x10000 ∷ drive 6000 0 0x06a00 ∷ drive 6000 7 0x10032 ∷ drive 6055 7 0x18032 ∷ drive 6055 0 0x02a00 ∷ drive 6055 7 0x10000 ∷ drive 6055 0 0x06a00 ∷ drive 6055 7 0x00008 ∷ drive 6145 7 0x08008 ∷ drive 6145 0 0x02a00 ∷ drive 6145 7 0x00000 ∷ drive 6145 0 0x03a00 ∷ drive 6945 0 0x03a01 ∷ drive 7000 0 0x07a01 ∷ drive 7000 7 0x08000 ∷ drive 7000 0 0x03a00 ∷ drive 7000 7 0x00000 ∷ drive 7000 0 0x03b03 ∷ drive 7055 0 0x07b03 ∷ drive 7055 7 0x08000 ∷ drive 7055 0 0x03a00 ∷ drive 7055 7 0x00000 ∷ drive 7055 0 0x03a01 ∷ drive 7110 0 0x07a01 ∷ drive 7110 7 0x08000 ∷ drive 7110 0 0x03a00 ∷ drive 7110 7 0x00000 ∷ drive 7110 0 0x03a32 ∷ drive 7165 0 0x07a32 ∷ drive 7165 7 0x08000 ∷ drive 7165 0 0x03a00 ∷ drive 7165 7 0x00000 ∷ drive 7165 0 0x03a08 ∷ drive 7220 0 0x07a08 ∷ drive 7220 7 0x08000 ∷ drive 7220 0 0x03a00 ∷ drive 7220 7 0x00000 ∷ drive 7220 0 0x00a00 ∷ drive 7620 0 0x04a00 ∷ drive 7620 7 0x00008 ∷ drive 7675 7 0x08008 ∷ drive 7675 0 0x00a00 ∷ drive 7675 7 0x00000 ∷ drive 7675 0 0x04a00 ∷ drive 7675 7 0x00100 ∷ drive 7730 7 0x08100 ∷ drive 7730 0 0x00a00 ∷ drive 7730 7 0x00000 ∷ drive 7730 0 0x04a00 ∷ drive 7730 7 0x00100 ∷ drive 7785 7 0x08100 ∷ drive 7785 0 0x00a00 ∷ drive 7785 7 0x00000 ∷ drive 7785 0 0x04a00 ∷ drive 7785 7 0x00100 ∷ drive 7840 7 0x08100 ∷ drive 7840 0 0x00a00 ∷ drive 7840 7 0x00000 ∷ drive 7840 0 0x04a00 ∷ drive 7840 7 0x00001 ∷ drive 7895 7 0x08001 ∷ drive 7895 0 0x00a00 ∷ drive 7895 7 0x00000 ∷ drive 7895 0 0x04a00 ∷ drive 7895 7 0x00100 ∷ drive 7950 7 0x08100 ∷ drive 7950 0 0x00a00 ∷ drive 7950 7 0x00000 ∷ drive 7950 0 0x01200 ∷ drive 8750 0 0x01201 ∷ drive 8804 0 0x05201 ∷ [])) 8804 ≡ Broken 97 22
unfolding union_below seen_with line_of ones form_out form_in
set_up_54 = refl

hold_99 : judged_whole (reverse (drive 1200 7 0x00280 ∷ drive 3600 7 0x00680 ∷ drive 4800 7 0x10781 ∷ drive 4890 7 0x10581 ∷ drive 5290 0 0x00200 ∷ drive 5380 7 0x10000 ∷ drive 5380 0 0x02a00 ∷ drive 5780 0 0x06a00 ∷ drive 5780 7 0x101c0 ∷ drive 5835 7 0x181c0 ∷ drive 5835 0 0x02a00 ∷ drive 5835 7 0x10000 ∷ drive 5835 0 0x06a00 ∷ drive 5835 7 0x10001 ∷ drive 5890 7 0x18001 ∷ drive 5890 0 0x02a00 ∷ drive 5890 7 0x10000 ∷ drive 5890 0 0x06a00 ∷ drive 5890 7 0x10103 ∷ drive 5945 7 0x18103 ∷ drive 5945 0 0x02a00 ∷ drive 5945 7 0x10000 ∷ drive 5945 0 0x06a00 ∷ drive 5945 7 0x10001 ∷ drive 6000 7 0x18001 ∷ drive 6000 0 0x02a00 ∷ drive 6000 7 0x10000 ∷ drive 6000 0 0x06a00 ∷ drive 6000 7 0x10032 ∷ drive 6055 7 0x18032 ∷ drive 6055 0 0x02a00 ∷ drive 6055 7 0x10000 ∷ drive 6055 0 0x06a00 ∷ drive 6055 7 0x00008 ∷ drive 6145 7 0x08008 ∷ drive 6145 0 0x02a00 ∷ drive 6145 7 0x00000 ∷ drive 6145 0 0x03a00 ∷ drive 6945 0 0x03a01 ∷ drive 7000 0 0x07a01 ∷ drive 7000 7 0x08000 ∷ drive 7000 0 0x03a00 ∷ drive 7000 7 0x00000 ∷ drive 7000 0 0x03b03 ∷ drive 7055 0 0x07b03 ∷ drive 7055 7 0x08000 ∷ drive 7055 0 0x03a00 ∷ drive 7055 7 0x00000 ∷ drive 7055 0 0x03a01 ∷ drive 7110 0 0x07a01 ∷ drive 7110 7 0x08000 ∷ drive 7110 0 0x03a00 ∷ drive 7110 7 0x00000 ∷ drive 7110 0 0x03a32 ∷ drive 7165 0 0x07a32 ∷ drive 7165 7 0x08000 ∷ drive 7165 0 0x03a00 ∷ drive 7165 7 0x00000 ∷ drive 7165 0 0x03a08 ∷ drive 7220 0 0x07a08 ∷ drive 7220 7 0x08000 ∷ drive 7220 0 0x03a00 ∷ drive 7220 7 0x00000 ∷ drive 7220 0 0x00a00 ∷ drive 7620 0 0x04a00 ∷ drive 7620 7 0x00008 ∷ drive 7675 7 0x08008 ∷ drive 7675 0 0x00a00 ∷ drive 7675 7 0x00000 ∷ drive 7675 0 0x04a00 ∷ drive 7675 7 0x00100 ∷ drive 7730 7 0x08100 ∷ drive 7730 0 0x00a00 ∷ drive 7730 7 0x00000 ∷ drive 7730 0 0x04a00 ∷ drive 7730 7 0x00100 ∷ drive 7785 7 0x08100 ∷ drive 7785 0 0x00a00 ∷ drive 7785 7 0x00000 ∷ drive 7785 0 0x04a00 ∷ drive 7785 7 0x00100 ∷ drive 7840 7 0x08100 ∷ drive 7840 0 0x00a00 ∷ drive 7840 7 0x00000 ∷ drive 7840 0 0x04a00 ∷ drive 7840 7 0x00001 ∷ drive 7895 7 0x08001 ∷ drive 7895 0 0x00a00 ∷ drive 7895 7 0x00000 ∷ drive 7895 0 0x04a00 ∷ drive 7895 7 0x00100 ∷ drive 7950 7 0x08100 ∷ drive 7950 0 0x00a00 ∷ drive 7950 7 0x00000 ∷ drive 7950 0 0x01200 ∷ drive 8750 0 0x01201 ∷ drive 8805 0 0x05201 ∷ drive 8895 0 0x01201 ∷ drive 8904 0 0x01202 ∷ [])) 8904 ≡ Broken 99 22
unfolding union_below seen_with line_of ones form_out form_in
hold_99 = refl

hold_100 : judged_whole (reverse (drive 1200 7 0x00280 ∷ drive 3600 7 0x00680 ∷ drive 4800 7 0x10781 ∷ drive 4890 7 0x10581 ∷ drive 5290 0 0x00200 ∷ drive 5380 7 0x10000 ∷ drive 5380 0 0x02a00 ∷ drive 5780 0 0x06a00 ∷ drive 5780 7 0x101c0 ∷ drive 5835 7 0x181c0 ∷ drive 5835 0 0x02a00 ∷ drive 5835 7 0x10000 ∷ drive 5835 0 0x06a00 ∷ drive 5835 7 0x10001 ∷ drive 5890 7 0x18001 ∷ drive 5890 0 0x02a00 ∷ drive 5890 7 0x10000 ∷ drive 5890 0 0x06a00 ∷ drive 5890 7 0x10103 ∷ drive 5945 7 0x18103 ∷ drive 5945 0 0x02a00 ∷ drive 5945 7 0x10000 ∷ drive 5945 0 0x06a00 ∷ drive 5945 7 0x10001 ∷ drive 6000 7 0x18001 ∷ drive 6000 0 0x02a00 ∷ drive 6000 7 0x10000 ∷ drive 6000 0 0x06a00 ∷ drive 6000 7 0x10032 ∷ drive 6055 7 0x18032 ∷ drive 6055 0 0x02a00 ∷ drive 6055 7 0x10000 ∷ drive 6055 0 0x06a00 ∷ drive 6055 7 0x00008 ∷ drive 6145 7 0x08008 ∷ drive 6145 0 0x02a00 ∷ drive 6145 7 0x00000 ∷ drive 6145 0 0x03a00 ∷ drive 6945 0 0x03a01 ∷ drive 7000 0 0x07a01 ∷ drive 7000 7 0x08000 ∷ drive 7000 0 0x03a00 ∷ drive 7000 7 0x00000 ∷ drive 7000 0 0x03b03 ∷ drive 7055 0 0x07b03 ∷ drive 7055 7 0x08000 ∷ drive 7055 0 0x03a00 ∷ drive 7055 7 0x00000 ∷ drive 7055 0 0x03a01 ∷ drive 7110 0 0x07a01 ∷ drive 7110 7 0x08000 ∷ drive 7110 0 0x03a00 ∷ drive 7110 7 0x00000 ∷ drive 7110 0 0x03a32 ∷ drive 7165 0 0x07a32 ∷ drive 7165 7 0x08000 ∷ drive 7165 0 0x03a00 ∷ drive 7165 7 0x00000 ∷ drive 7165 0 0x03a08 ∷ drive 7220 0 0x07a08 ∷ drive 7220 7 0x08000 ∷ drive 7220 0 0x03a00 ∷ drive 7220 7 0x00000 ∷ drive 7220 0 0x00a00 ∷ drive 7620 0 0x04a00 ∷ drive 7620 7 0x00008 ∷ drive 7675 7 0x08008 ∷ drive 7675 0 0x00a00 ∷ drive 7675 7 0x00000 ∷ drive 7675 0 0x04a00 ∷ drive 7675 7 0x00100 ∷ drive 7730 7 0x08100 ∷ drive 7730 0 0x00a00 ∷ drive 7730 7 0x00000 ∷ drive 7730 0 0x04a00 ∷ drive 7730 7 0x00100 ∷ drive 7785 7 0x08100 ∷ drive 7785 0 0x00a00 ∷ drive 7785 7 0x00000 ∷ drive 7785 0 0x04a00 ∷ drive 7785 7 0x00100 ∷ drive 7840 7 0x08100 ∷ drive 7840 0 0x00a00 ∷ drive 7840 7 0x00000 ∷ drive 7840 0 0x04a00 ∷ drive 7840 7 0x00001 ∷ drive 7895 7 0x08001 ∷ drive 7895 0 0x00a00 ∷ drive 7895 7 0x00000 ∷ drive 7895 0 0x04a00 ∷ drive 7895 7 0x00100 ∷ drive 7950 7 0x08100 ∷ drive 7950 0 0x00a00 ∷ drive 7950 7 0x00000 ∷ drive 7950 0 0x01200 ∷ drive 8750 0 0x01201 ∷ drive 8805 0 0x05201 ∷ drive 8895 0 0x01201 ∷ drive 8905 0 0x01202 ∷ [])) 8905 ≡ Lawful
unfolding union_below seen_with line_of ones form_out form_in
hold_100 = refl

ack_pulse_short : judged_whole (reverse (drive 1200 7 0x00280 ∷ drive 3600 7 0x00680 ∷ drive 4800 7 0x10781 ∷ drive 4890 7 0x10581 ∷ drive 5290 0 0x00200 ∷ drive 5380 7 0x10000 ∷ drive 5380 0 0x02a00 ∷ drive 5780 0 0x06a00 ∷ drive 5780 7 0x101c0 ∷ drive 5835 7 0x181c0 ∷ drive 5835 0 0x02a00 ∷ drive 5835 7 0x10000 ∷ drive 5835 0 0x06a00 ∷ drive 5835 7 0x10001 ∷ drive 5890 7 0x18001 ∷ drive 5890 0 0x02a00 ∷ drive 5890 7 0x10000 ∷ drive 5890 0 0x06a00 ∷ drive 5890 7 0x10103 ∷ drive 5945 7 0x18103 ∷ drive 5945 0 0x02a00 ∷ drive 5945 7 0x10000 ∷ drive 5945 0 0x06a00 ∷ drive 5945 7 0x10001 ∷ drive 6000 7 0x18001 ∷ drive 6000 0 0x02a00 ∷ drive 6000 7 0x10000 ∷ drive 6000 0 0x06a00 ∷ drive 6000 7 0x10032 ∷ drive 6055 7 0x18032 ∷ drive 6055 0 0x02a00 ∷ drive 6055 7 0x10000 ∷ drive 6055 0 0x06a00 ∷ drive 6055 7 0x00008 ∷ drive 6145 7 0x08008 ∷ drive 6145 0 0x02a00 ∷ drive 6145 7 0x00000 ∷ drive 6145 0 0x03a00 ∷ drive 6945 0 0x03a01 ∷ drive 7000 0 0x07a01 ∷ drive 7000 7 0x08000 ∷ drive 7000 0 0x03a00 ∷ drive 7000 7 0x00000 ∷ drive 7000 0 0x03b03 ∷ drive 7055 0 0x07b03 ∷ drive 7055 7 0x08000 ∷ drive 7055 0 0x03a00 ∷ drive 7055 7 0x00000 ∷ drive 7055 0 0x03a01 ∷ drive 7110 0 0x07a01 ∷ drive 7110 7 0x08000 ∷ drive 7110 0 0x03a00 ∷ drive 7110 7 0x00000 ∷ drive 7110 0 0x03a32 ∷ drive 7165 0 0x07a32 ∷ drive 7165 7 0x08000 ∷ drive 7165 0 0x03a00 ∷ drive 7165 7 0x00000 ∷ drive 7165 0 0x03a08 ∷ drive 7220 0 0x07a08 ∷ drive 7220 7 0x08000 ∷ drive 7220 0 0x03a00 ∷ drive 7220 7 0x00000 ∷ drive 7220 0 0x00a00 ∷ drive 7620 0 0x04a00 ∷ drive 7620 7 0x00008 ∷ drive 7675 7 0x08008 ∷ drive 7675 0 0x00a00 ∷ drive 7675 7 0x00000 ∷ drive 7675 0 0x04a00 ∷ drive 7675 7 0x00100 ∷ drive 7730 7 0x08100 ∷ drive 7730 0 0x00a00 ∷ drive 7730 7 0x00000 ∷ drive 7730 0 0x04a00 ∷ drive 7730 7 0x00100 ∷ drive 7785 7 0x08100 ∷ drive 7785 0 0x00a00 ∷ drive 7785 7 0x00000 ∷ drive 7785 0 0x04a00 ∷ drive 7785 7 0x00100 ∷ drive 7840 7 0x08100 ∷ drive 7840 0 0x00a00 ∷ drive 7840 7 0x00000 ∷ drive 7840 0 0x04a00 ∷ drive 7840 7 0x00001 ∷ drive 7895 7 0x08001 ∷ drive 7895 0 0x00a00 ∷ drive 7895 7 0x00000 ∷ drive 7895 0 0x04a00 ∷ drive 7895 7 0x00100 ∷ drive 7950 7 0x08100 ∷ drive 7950 0 0x00a00 ∷ drive 7950 7 0x00000 ∷ drive 7950 0 0x01200 ∷ drive 8750 0 0x01201 ∷ drive 8805 0 0x05201 ∷ drive 8815 7 0x08000 ∷ drive 8904 7 0x00000 ∷ [])) 8904 ≡ Broken 99 22
unfolding union_below seen_with line_of ones form_out form_in
ack_pulse_short = refl

ack_pulse_kept : judged_whole (reverse (drive 1200 7 0x00280 ∷ drive 3600 7 0x00680 ∷ drive 4800 7 0x10781 ∷ drive 4890 7 0x10581 ∷ drive 5290 0 0x00200 ∷ drive 5380 7 0x10000 ∷ drive 5380 0 0x02a00 ∷ drive 5780 0 0x06a00 ∷ drive 5780 7 0x101c0 ∷ drive 5835 7 0x181c0 ∷ drive 5835 0 0x02a00 ∷ drive 5835 7 0x10000 ∷ drive 5835 0 0x06a00 ∷ drive 5835 7 0x10001 ∷ drive 5890 7 0x18001 ∷ drive 5890 0 0x02a00 ∷ drive 5890 7 0x10000 ∷ drive 5890 0 0x06a00 ∷ drive 5890 7 0x10103 ∷ drive 5945 7 0x18103 ∷ drive 5945 0 0x02a00 ∷ drive 5945 7 0x10000 ∷ drive 5945 0 0x06a00 ∷ drive 5945 7 0x10001 ∷ drive 6000 7 0x18001 ∷ drive 6000 0 0x02a00 ∷ drive 6000 7 0x10000 ∷ drive 6000 0 0x06a00 ∷ drive 6000 7 0x10032 ∷ drive 6055 7 0x18032 ∷ drive 6055 0 0x02a00 ∷ drive 6055 7 0x10000 ∷ drive 6055 0 0x06a00 ∷ drive 6055 7 0x00008 ∷ drive 6145 7 0x08008 ∷ drive 6145 0 0x02a00 ∷ drive 6145 7 0x00000 ∷ drive 6145 0 0x03a00 ∷ drive 6945 0 0x03a01 ∷ drive 7000 0 0x07a01 ∷ drive 7000 7 0x08000 ∷ drive 7000 0 0x03a00 ∷ drive 7000 7 0x00000 ∷ drive 7000 0 0x03b03 ∷ drive 7055 0 0x07b03 ∷ drive 7055 7 0x08000 ∷ drive 7055 0 0x03a00 ∷ drive 7055 7 0x00000 ∷ drive 7055 0 0x03a01 ∷ drive 7110 0 0x07a01 ∷ drive 7110 7 0x08000 ∷ drive 7110 0 0x03a00 ∷ drive 7110 7 0x00000 ∷ drive 7110 0 0x03a32 ∷ drive 7165 0 0x07a32 ∷ drive 7165 7 0x08000 ∷ drive 7165 0 0x03a00 ∷ drive 7165 7 0x00000 ∷ drive 7165 0 0x03a08 ∷ drive 7220 0 0x07a08 ∷ drive 7220 7 0x08000 ∷ drive 7220 0 0x03a00 ∷ drive 7220 7 0x00000 ∷ drive 7220 0 0x00a00 ∷ drive 7620 0 0x04a00 ∷ drive 7620 7 0x00008 ∷ drive 7675 7 0x08008 ∷ drive 7675 0 0x00a00 ∷ drive 7675 7 0x00000 ∷ drive 7675 0 0x04a00 ∷ drive 7675 7 0x00100 ∷ drive 7730 7 0x08100 ∷ drive 7730 0 0x00a00 ∷ drive 7730 7 0x00000 ∷ drive 7730 0 0x04a00 ∷ drive 7730 7 0x00100 ∷ drive 7785 7 0x08100 ∷ drive 7785 0 0x00a00 ∷ drive 7785 7 0x00000 ∷ drive 7785 0 0x04a00 ∷ drive 7785 7 0x00100 ∷ drive 7840 7 0x08100 ∷ drive 7840 0 0x00a00 ∷ drive 7840 7 0x00000 ∷ drive 7840 0 0x04a00 ∷ drive 7840 7 0x00001 ∷ drive 7895 7 0x08001 ∷ drive 7895 0 0x00a00 ∷ drive 7895 7 0x00000 ∷ drive 7895 0 0x04a00 ∷ drive 7895 7 0x00100 ∷ drive 7950 7 0x08100 ∷ drive 7950 0 0x00a00 ∷ drive 7950 7 0x00000 ∷ drive 7950 0 0x01200 ∷ drive 8750 0 0x01201 ∷ drive 8805 0 0x05201 ∷ drive 8815 7 0x08000 ∷ drive 8905 7 0x00000 ∷ [])) 8905 ≡ Lawful
unfolding union_below seen_with line_of ones form_out form_in
ack_pulse_kept = refl

fast_pulse_29 : judged_whole (reverse (drive 1200 7 0x00280 ∷ drive 3600 7 0x00680 ∷ drive 4800 7 0x10781 ∷ drive 4890 7 0x10581 ∷ drive 5290 0 0x00200 ∷ drive 5380 7 0x10000 ∷ drive 5380 0 0x02a00 ∷ drive 5780 0 0x06a00 ∷ drive 5780 7 0x101c0 ∷ drive 5835 7 0x181c0 ∷ drive 5835 0 0x02a00 ∷ drive 5835 7 0x10000 ∷ drive 5835 0 0x06a00 ∷ drive 5835 7 0x10001 ∷ drive 5890 7 0x18001 ∷ drive 5890 0 0x02a00 ∷ drive 5890 7 0x10000 ∷ drive 5890 0 0x06a00 ∷ drive 5890 7 0x10103 ∷ drive 5945 7 0x18103 ∷ drive 5945 0 0x02a00 ∷ drive 5945 7 0x10000 ∷ drive 5945 0 0x06a00 ∷ drive 5945 7 0x10001 ∷ drive 6000 7 0x18001 ∷ drive 6000 0 0x02a00 ∷ drive 6000 7 0x10000 ∷ drive 6000 0 0x06a00 ∷ drive 6000 7 0x10019 ∷ drive 6055 7 0x18019 ∷ drive 6055 0 0x02a00 ∷ drive 6055 7 0x10000 ∷ drive 6055 0 0x06a00 ∷ drive 6055 7 0x00001 ∷ drive 6145 7 0x08001 ∷ drive 6145 0 0x02a00 ∷ drive 6145 7 0x00000 ∷ drive 6145 0 0x03a00 ∷ drive 6945 0 0x03a01 ∷ drive 7000 0 0x07a01 ∷ drive 7000 7 0x08000 ∷ drive 7000 0 0x03a00 ∷ drive 7000 7 0x00000 ∷ drive 7000 0 0x03b03 ∷ drive 7055 0 0x07b03 ∷ drive 7055 7 0x08000 ∷ drive 7055 0 0x03a00 ∷ drive 7055 7 0x00000 ∷ drive 7055 0 0x03a01 ∷ drive 7110 0 0x07a01 ∷ drive 7110 7 0x08000 ∷ drive 7110 0 0x03a00 ∷ drive 7110 7 0x00000 ∷ drive 7110 0 0x03a19 ∷ drive 7165 0 0x07a19 ∷ drive 7165 7 0x08000 ∷ drive 7165 0 0x03a00 ∷ drive 7165 7 0x00000 ∷ drive 7165 0 0x03a01 ∷ drive 7220 0 0x07a01 ∷ drive 7220 7 0x08000 ∷ drive 7220 0 0x03a00 ∷ drive 7220 7 0x00000 ∷ drive 7220 0 0x00a00 ∷ drive 7620 0 0x04a00 ∷ drive 7620 7 0x00008 ∷ drive 7675 7 0x08008 ∷ drive 7675 0 0x00a00 ∷ drive 7675 7 0x00000 ∷ drive 7675 0 0x04a00 ∷ drive 7675 7 0x00100 ∷ drive 7730 7 0x08100 ∷ drive 7730 0 0x00a00 ∷ drive 7730 7 0x00000 ∷ drive 7730 0 0x04a00 ∷ drive 7730 7 0x00100 ∷ drive 7785 7 0x08100 ∷ drive 7785 0 0x00a00 ∷ drive 7785 7 0x00000 ∷ drive 7785 0 0x04a00 ∷ drive 7785 7 0x00100 ∷ drive 7840 7 0x08100 ∷ drive 7840 0 0x00a00 ∷ drive 7840 7 0x00000 ∷ drive 7840 0 0x04a00 ∷ drive 7840 7 0x00001 ∷ drive 7895 7 0x08001 ∷ drive 7895 0 0x00a00 ∷ drive 7895 7 0x00000 ∷ drive 7895 0 0x04a00 ∷ drive 7895 7 0x00100 ∷ drive 7950 7 0x08100 ∷ drive 7950 0 0x00a00 ∷ drive 7950 7 0x00000 ∷ drive 7950 0 0x01200 ∷ drive 8750 0 0x01201 ∷ drive 8775 0 0x05201 ∷ drive 8804 0 0x01201 ∷ [])) 8804 ≡ Broken 98 22
unfolding union_below seen_with line_of ones form_out form_in
fast_pulse_29 = refl

fast_pulse_30 : judged_whole (reverse (drive 1200 7 0x00280 ∷ drive 3600 7 0x00680 ∷ drive 4800 7 0x10781 ∷ drive 4890 7 0x10581 ∷ drive 5290 0 0x00200 ∷ drive 5380 7 0x10000 ∷ drive 5380 0 0x02a00 ∷ drive 5780 0 0x06a00 ∷ drive 5780 7 0x101c0 ∷ drive 5835 7 0x181c0 ∷ drive 5835 0 0x02a00 ∷ drive 5835 7 0x10000 ∷ drive 5835 0 0x06a00 ∷ drive 5835 7 0x10001 ∷ drive 5890 7 0x18001 ∷ drive 5890 0 0x02a00 ∷ drive 5890 7 0x10000 ∷ drive 5890 0 0x06a00 ∷ drive 5890 7 0x10103 ∷ drive 5945 7 0x18103 ∷ drive 5945 0 0x02a00 ∷ drive 5945 7 0x10000 ∷ drive 5945 0 0x06a00 ∷ drive 5945 7 0x10001 ∷ drive 6000 7 0x18001 ∷ drive 6000 0 0x02a00 ∷ drive 6000 7 0x10000 ∷ drive 6000 0 0x06a00 ∷ drive 6000 7 0x10019 ∷ drive 6055 7 0x18019 ∷ drive 6055 0 0x02a00 ∷ drive 6055 7 0x10000 ∷ drive 6055 0 0x06a00 ∷ drive 6055 7 0x00001 ∷ drive 6145 7 0x08001 ∷ drive 6145 0 0x02a00 ∷ drive 6145 7 0x00000 ∷ drive 6145 0 0x03a00 ∷ drive 6945 0 0x03a01 ∷ drive 7000 0 0x07a01 ∷ drive 7000 7 0x08000 ∷ drive 7000 0 0x03a00 ∷ drive 7000 7 0x00000 ∷ drive 7000 0 0x03b03 ∷ drive 7055 0 0x07b03 ∷ drive 7055 7 0x08000 ∷ drive 7055 0 0x03a00 ∷ drive 7055 7 0x00000 ∷ drive 7055 0 0x03a01 ∷ drive 7110 0 0x07a01 ∷ drive 7110 7 0x08000 ∷ drive 7110 0 0x03a00 ∷ drive 7110 7 0x00000 ∷ drive 7110 0 0x03a19 ∷ drive 7165 0 0x07a19 ∷ drive 7165 7 0x08000 ∷ drive 7165 0 0x03a00 ∷ drive 7165 7 0x00000 ∷ drive 7165 0 0x03a01 ∷ drive 7220 0 0x07a01 ∷ drive 7220 7 0x08000 ∷ drive 7220 0 0x03a00 ∷ drive 7220 7 0x00000 ∷ drive 7220 0 0x00a00 ∷ drive 7620 0 0x04a00 ∷ drive 7620 7 0x00008 ∷ drive 7675 7 0x08008 ∷ drive 7675 0 0x00a00 ∷ drive 7675 7 0x00000 ∷ drive 7675 0 0x04a00 ∷ drive 7675 7 0x00100 ∷ drive 7730 7 0x08100 ∷ drive 7730 0 0x00a00 ∷ drive 7730 7 0x00000 ∷ drive 7730 0 0x04a00 ∷ drive 7730 7 0x00100 ∷ drive 7785 7 0x08100 ∷ drive 7785 0 0x00a00 ∷ drive 7785 7 0x00000 ∷ drive 7785 0 0x04a00 ∷ drive 7785 7 0x00100 ∷ drive 7840 7 0x08100 ∷ drive 7840 0 0x00a00 ∷ drive 7840 7 0x00000 ∷ drive 7840 0 0x04a00 ∷ drive 7840 7 0x00001 ∷ drive 7895 7 0x08001 ∷ drive 7895 0 0x00a00 ∷ drive 7895 7 0x00000 ∷ drive 7895 0 0x04a00 ∷ drive 7895 7 0x00100 ∷ drive 7950 7 0x08100 ∷ drive 7950 0 0x00a00 ∷ drive 7950 7 0x00000 ∷ drive 7950 0 0x01200 ∷ drive 8750 0 0x01201 ∷ drive 8775 0 0x05201 ∷ drive 8805 0 0x01201 ∷ [])) 8805 ≡ Lawful
unfolding union_below seen_with line_of ones form_out form_in
fast_pulse_30 = refl

fast_set_up_24 : judged_whole (reverse (drive 1200 7 0x00280 ∷ drive 3600 7 0x00680 ∷ drive 4800 7 0x10781 ∷ drive 4890 7 0x10581 ∷ drive 5290 0 0x00200 ∷ drive 5380 7 0x10000 ∷ drive 5380 0 0x02a00 ∷ drive 5780 0 0x06a00 ∷ drive 5780 7 0x101c0 ∷ drive 5835 7 0x181c0 ∷ drive 5835 0 0x02a00 ∷ drive 5835 7 0x10000 ∷ drive 5835 0 0x06a00 ∷ drive 5835 7 0x10001 ∷ drive 5890 7 0x18001 ∷ drive 5890 0 0x02a00 ∷ drive 5890 7 0x10000 ∷ drive 5890 0 0x06a00 ∷ drive 5890 7 0x10103 ∷ drive 5945 7 0x18103 ∷ drive 5945 0 0x02a00 ∷ drive 5945 7 0x10000 ∷ drive 5945 0 0x06a00 ∷ drive 5945 7 0x10001 ∷ drive 6000 7 0x18001 ∷ drive 6000 0 0x02a00 ∷ drive 6000 7 0x10000 ∷ drive 6000 0 0x06a00 ∷ drive 6000 7 0x10019 ∷ drive 6055 7 0x18019 ∷ drive 6055 0 0x02a00 ∷ drive 6055 7 0x10000 ∷ drive 6055 0 0x06a00 ∷ drive 6055 7 0x00001 ∷ drive 6145 7 0x08001 ∷ drive 6145 0 0x02a00 ∷ drive 6145 7 0x00000 ∷ drive 6145 0 0x03a00 ∷ drive 6945 0 0x03a01 ∷ drive 7000 0 0x07a01 ∷ drive 7000 7 0x08000 ∷ drive 7000 0 0x03a00 ∷ drive 7000 7 0x00000 ∷ drive 7000 0 0x03b03 ∷ drive 7055 0 0x07b03 ∷ drive 7055 7 0x08000 ∷ drive 7055 0 0x03a00 ∷ drive 7055 7 0x00000 ∷ drive 7055 0 0x03a01 ∷ drive 7110 0 0x07a01 ∷ drive 7110 7 0x08000 ∷ drive 7110 0 0x03a00 ∷ drive 7110 7 0x00000 ∷ drive 7110 0 0x03a19 ∷ drive 7165 0 0x07a19 ∷ drive 7165 7 0x08000 ∷ drive 7165 0 0x03a00 ∷ drive 7165 7 0x00000 ∷ drive 7165 0 0x03a01 ∷ drive 7220 0 0x07a01 ∷ drive 7220 7 0x08000 ∷ drive 7220 0 0x03a00 ∷ drive 7220 7 0x00000 ∷ drive 7220 0 0x00a00 ∷ drive 7620 0 0x04a00 ∷ drive 7620 7 0x00008 ∷ drive 7675 7 0x08008 ∷ drive 7675 0 0x00a00 ∷ drive 7675 7 0x00000 ∷ drive 7675 0 0x04a00 ∷ drive 7675 7 0x00100 ∷ drive 7730 7 0x08100 ∷ drive 7730 0 0x00a00 ∷ drive 7730 7 0x00000 ∷ drive 7730 0 0x04a00 ∷ drive 7730 7 0x00100 ∷ drive 7785 7 0x08100 ∷ drive 7785 0 0x00a00 ∷ drive 7785 7 0x00000 ∷ drive 7785 0 0x04a00 ∷ drive 7785 7 0x00100 ∷ drive 7840 7 0x08100 ∷ drive 7840 0 0x00a00 ∷ drive 7840 7 0x00000 ∷ drive 7840 0 0x04a00 ∷ drive 7840 7 0x00001 ∷ drive 7895 7 0x08001 ∷ drive 7895 0 0x00a00 ∷ drive 7895 7 0x00000 ∷ drive 7895 0 0x04a00 ∷ drive 7895 7 0x00100 ∷ drive 7950 7 0x08100 ∷ drive 7950 0 0x00a00 ∷ drive 7950 7 0x00000 ∷ drive 7950 0 0x01200 ∷ drive 8750 0 0x01201 ∷ drive 8774 0 0x05201 ∷ [])) 8774 ≡ Broken 97 22
unfolding union_below seen_with line_of ones form_out form_in
fast_set_up_24 = refl

fast_hold_34 : judged_whole (reverse (drive 1200 7 0x00280 ∷ drive 3600 7 0x00680 ∷ drive 4800 7 0x10781 ∷ drive 4890 7 0x10581 ∷ drive 5290 0 0x00200 ∷ drive 5380 7 0x10000 ∷ drive 5380 0 0x02a00 ∷ drive 5780 0 0x06a00 ∷ drive 5780 7 0x101c0 ∷ drive 5835 7 0x181c0 ∷ drive 5835 0 0x02a00 ∷ drive 5835 7 0x10000 ∷ drive 5835 0 0x06a00 ∷ drive 5835 7 0x10001 ∷ drive 5890 7 0x18001 ∷ drive 5890 0 0x02a00 ∷ drive 5890 7 0x10000 ∷ drive 5890 0 0x06a00 ∷ drive 5890 7 0x10103 ∷ drive 5945 7 0x18103 ∷ drive 5945 0 0x02a00 ∷ drive 5945 7 0x10000 ∷ drive 5945 0 0x06a00 ∷ drive 5945 7 0x10001 ∷ drive 6000 7 0x18001 ∷ drive 6000 0 0x02a00 ∷ drive 6000 7 0x10000 ∷ drive 6000 0 0x06a00 ∷ drive 6000 7 0x10019 ∷ drive 6055 7 0x18019 ∷ drive 6055 0 0x02a00 ∷ drive 6055 7 0x10000 ∷ drive 6055 0 0x06a00 ∷ drive 6055 7 0x00001 ∷ drive 6145 7 0x08001 ∷ drive 6145 0 0x02a00 ∷ drive 6145 7 0x00000 ∷ drive 6145 0 0x03a00 ∷ drive 6945 0 0x03a01 ∷ drive 7000 0 0x07a01 ∷ drive 7000 7 0x08000 ∷ drive 7000 0 0x03a00 ∷ drive 7000 7 0x00000 ∷ drive 7000 0 0x03b03 ∷ drive 7055 0 0x07b03 ∷ drive 7055 7 0x08000 ∷ drive 7055 0 0x03a00 ∷ drive 7055 7 0x00000 ∷ drive 7055 0 0x03a01 ∷ drive 7110 0 0x07a01 ∷ drive 7110 7 0x08000 ∷ drive 7110 0 0x03a00 ∷ drive 7110 7 0x00000 ∷ drive 7110 0 0x03a19 ∷ drive 7165 0 0x07a19 ∷ drive 7165 7 0x08000 ∷ drive 7165 0 0x03a00 ∷ drive 7165 7 0x00000 ∷ drive 7165 0 0x03a01 ∷ drive 7220 0 0x07a01 ∷ drive 7220 7 0x08000 ∷ drive 7220 0 0x03a00 ∷ drive 7220 7 0x00000 ∷ drive 7220 0 0x00a00 ∷ drive 7620 0 0x04a00 ∷ drive 7620 7 0x00008 ∷ drive 7675 7 0x08008 ∷ drive 7675 0 0x00a00 ∷ drive 7675 7 0x00000 ∷ drive 7675 0 0x04a00 ∷ drive 7675 7 0x00100 ∷ drive 7730 7 0x08100 ∷ drive 7730 0 0x00a00 ∷ drive 7730 7 0x00000 ∷ drive 7730 0 0x04a00 ∷ drive 7730 7 0x00100 ∷ drive 7785 7 0x08100 ∷ drive 7785 0 0x00a00 ∷ drive 7785 7 0x00000 ∷ drive 7785 0 0x04a00 ∷ drive 7785 7 0x00100 ∷ drive 7840 7 0x08100 ∷ drive 7840 0 0x00a00 ∷ drive 7840 7 0x00000 ∷ drive 7840 0 0x04a00 ∷ drive 7840 7 0x00001 ∷ drive 7895 7 0x08001 ∷ drive 7895 0 0x00a00 ∷ drive 7895 7 0x00000 ∷ drive 7895 0 0x04a00 ∷ drive 7895 7 0x00100 ∷ drive 7950 7 0x08100 ∷ drive 7950 0 0x00a00 ∷ drive 7950 7 0x00000 ∷ drive 7950 0 0x01200 ∷ drive 8750 0 0x01201 ∷ drive 8775 0 0x05201 ∷ drive 8805 0 0x01201 ∷ drive 8809 0 0x01202 ∷ [])) 8809 ≡ Broken 99 22
unfolding union_below seen_with line_of ones form_out form_in
fast_hold_34 = refl

fast_hold_35 : judged_whole (reverse (drive 1200 7 0x00280 ∷ drive 3600 7 0x00680 ∷ drive 4800 7 0x10781 ∷ drive 4890 7 0x10581 ∷ drive 5290 0 0x00200 ∷ drive 5380 7 0x10000 ∷ drive 5380 0 0x02a00 ∷ drive 5780 0 0x06a00 ∷ drive 5780 7 0x101c0 ∷ drive 5835 7 0x181c0 ∷ drive 5835 0 0x02a00 ∷ drive 5835 7 0x10000 ∷ drive 5835 0 0x06a00 ∷ drive 5835 7 0x10001 ∷ drive 5890 7 0x18001 ∷ drive 5890 0 0x02a00 ∷ drive 5890 7 0x10000 ∷ drive 5890 0 0x06a00 ∷ drive 5890 7 0x10103 ∷ drive 5945 7 0x18103 ∷ drive 5945 0 0x02a00 ∷ drive 5945 7 0x10000 ∷ drive 5945 0 0x06a00 ∷ drive 5945 7 0x10001 ∷ drive 6000 7 0x18001 ∷ drive 6000 0 0x02a00 ∷ drive 6000 7 0x10000 ∷ drive 6000 0 0x06a00 ∷ drive 6000 7 0x10019 ∷ drive 6055 7 0x18019 ∷ drive 6055 0 0x02a00 ∷ drive 6055 7 0x10000 ∷ drive 6055 0 0x06a00 ∷ drive 6055 7 0x00001 ∷ drive 6145 7 0x08001 ∷ drive 6145 0 0x02a00 ∷ drive 6145 7 0x00000 ∷ drive 6145 0 0x03a00 ∷ drive 6945 0 0x03a01 ∷ drive 7000 0 0x07a01 ∷ drive 7000 7 0x08000 ∷ drive 7000 0 0x03a00 ∷ drive 7000 7 0x00000 ∷ drive 7000 0 0x03b03 ∷ drive 7055 0 0x07b03 ∷ drive 7055 7 0x08000 ∷ drive 7055 0 0x03a00 ∷ drive 7055 7 0x00000 ∷ drive 7055 0 0x03a01 ∷ drive 7110 0 0x07a01 ∷ drive 7110 7 0x08000 ∷ drive 7110 0 0x03a00 ∷ drive 7110 7 0x00000 ∷ drive 7110 0 0x03a19 ∷ drive 7165 0 0x07a19 ∷ drive 7165 7 0x08000 ∷ drive 7165 0 0x03a00 ∷ drive 7165 7 0x00000 ∷ drive 7165 0 0x03a01 ∷ drive 7220 0 0x07a01 ∷ drive 7220 7 0x08000 ∷ drive 7220 0 0x03a00 ∷ drive 7220 7 0x00000 ∷ drive 7220 0 0x00a00 ∷ drive 7620 0 0x04a00 ∷ drive 7620 7 0x00008 ∷ drive 7675 7 0x08008 ∷ drive 7675 0 0x00a00 ∷ drive 7675 7 0x00000 ∷ drive 7675 0 0x04a00 ∷ drive 7675 7 0x00100 ∷ drive 7730 7 0x08100 ∷ drive 7730 0 0x00a00 ∷ drive 7730 7 0x00000 ∷ drive 7730 0 0x04a00 ∷ drive 7730 7 0x00100 ∷ drive 7785 7 0x08100 ∷ drive 7785 0 0x00a00 ∷ drive 7785 7 0x00000 ∷ drive 7785 0 0x04a00 ∷ drive 7785 7 0x00100 ∷ drive 7840 7 0x08100 ∷ drive 7840 0 0x00a00 ∷ drive 7840 7 0x00000 ∷ drive 7840 0 0x04a00 ∷ drive 7840 7 0x00001 ∷ drive 7895 7 0x08001 ∷ drive 7895 0 0x00a00 ∷ drive 7895 7 0x00000 ∷ drive 7895 0 0x04a00 ∷ drive 7895 7 0x00100 ∷ drive 7950 7 0x08100 ∷ drive 7950 0 0x00a00 ∷ drive 7950 7 0x00000 ∷ drive 7950 0 0x01200 ∷ drive 8750 0 0x01201 ∷ drive 8775 0 0x05201 ∷ drive 8805 0 0x01201 ∷ drive 8810 0 0x01202 ∷ [])) 8810 ≡ Lawful
unfolding union_below seen_with line_of ones form_out form_in
fast_hold_35 = refl

factor_25_short : judged_whole (reverse (drive 1200 7 0x00280 ∷ drive 3600 7 0x00680 ∷ drive 4800 7 0x10781 ∷ drive 4890 7 0x10581 ∷ drive 5290 0 0x00200 ∷ drive 5380 7 0x10000 ∷ drive 5380 0 0x02a00 ∷ drive 5780 0 0x06a00 ∷ drive 5780 7 0x101c0 ∷ drive 5835 7 0x181c0 ∷ drive 5835 0 0x02a00 ∷ drive 5835 7 0x10000 ∷ drive 5835 0 0x06a00 ∷ drive 5835 7 0x10001 ∷ drive 5890 7 0x18001 ∷ drive 5890 0 0x02a00 ∷ drive 5890 7 0x10000 ∷ drive 5890 0 0x06a00 ∷ drive 5890 7 0x10103 ∷ drive 5945 7 0x18103 ∷ drive 5945 0 0x02a00 ∷ drive 5945 7 0x10000 ∷ drive 5945 0 0x06a00 ∷ drive 5945 7 0x10001 ∷ drive 6000 7 0x18001 ∷ drive 6000 0 0x02a00 ∷ drive 6000 7 0x10000 ∷ drive 6000 0 0x06a00 ∷ drive 6000 7 0x10019 ∷ drive 6055 7 0x18019 ∷ drive 6055 0 0x02a00 ∷ drive 6055 7 0x10000 ∷ drive 6055 0 0x06a00 ∷ drive 6055 7 0x00008 ∷ drive 6145 7 0x08008 ∷ drive 6145 0 0x02a00 ∷ drive 6145 7 0x00000 ∷ drive 6145 0 0x03a00 ∷ drive 6945 0 0x03a01 ∷ drive 7000 0 0x07a01 ∷ drive 7000 7 0x08000 ∷ drive 7000 0 0x03a00 ∷ drive 7000 7 0x00000 ∷ drive 7000 0 0x03b03 ∷ drive 7055 0 0x07b03 ∷ drive 7055 7 0x08000 ∷ drive 7055 0 0x03a00 ∷ drive 7055 7 0x00000 ∷ drive 7055 0 0x03a01 ∷ drive 7110 0 0x07a01 ∷ drive 7110 7 0x08000 ∷ drive 7110 0 0x03a00 ∷ drive 7110 7 0x00000 ∷ drive 7110 0 0x03a19 ∷ drive 7165 0 0x07a19 ∷ drive 7165 7 0x08000 ∷ drive 7165 0 0x03a00 ∷ drive 7165 7 0x00000 ∷ drive 7165 0 0x03a08 ∷ drive 7220 0 0x07a08 ∷ drive 7220 7 0x08000 ∷ drive 7220 0 0x03a00 ∷ drive 7220 7 0x00000 ∷ drive 7220 0 0x00a00 ∷ drive 7620 0 0x04a00 ∷ drive 7620 7 0x00008 ∷ drive 7675 7 0x08008 ∷ drive 7675 0 0x00a00 ∷ drive 7675 7 0x00000 ∷ drive 7675 0 0x04a00 ∷ drive 7675 7 0x00100 ∷ drive 7730 7 0x08100 ∷ drive 7730 0 0x00a00 ∷ drive 7730 7 0x00000 ∷ drive 7730 0 0x04a00 ∷ drive 7730 7 0x00100 ∷ drive 7785 7 0x08100 ∷ drive 7785 0 0x00a00 ∷ drive 7785 7 0x00000 ∷ drive 7785 0 0x04a00 ∷ drive 7785 7 0x00100 ∷ drive 7840 7 0x08100 ∷ drive 7840 0 0x00a00 ∷ drive 7840 7 0x00000 ∷ drive 7840 0 0x04a00 ∷ drive 7840 7 0x00001 ∷ drive 7895 7 0x08001 ∷ drive 7895 0 0x00a00 ∷ drive 7895 7 0x00000 ∷ drive 7895 0 0x04a00 ∷ drive 7895 7 0x00100 ∷ drive 7950 7 0x08100 ∷ drive 7950 0 0x00a00 ∷ drive 7950 7 0x00000 ∷ drive 7950 0 0x01200 ∷ drive 8750 0 0x01201 ∷ drive 8775 0 0x05201 ∷ drive 8805 0 0x01201 ∷ drive 8874 0 0x05201 ∷ [])) 8874 ≡ Broken 99 22
unfolding union_below seen_with line_of ones form_out form_in
factor_25_short = refl

factor_25 : judged_whole (reverse (drive 1200 7 0x00280 ∷ drive 3600 7 0x00680 ∷ drive 4800 7 0x10781 ∷ drive 4890 7 0x10581 ∷ drive 5290 0 0x00200 ∷ drive 5380 7 0x10000 ∷ drive 5380 0 0x02a00 ∷ drive 5780 0 0x06a00 ∷ drive 5780 7 0x101c0 ∷ drive 5835 7 0x181c0 ∷ drive 5835 0 0x02a00 ∷ drive 5835 7 0x10000 ∷ drive 5835 0 0x06a00 ∷ drive 5835 7 0x10001 ∷ drive 5890 7 0x18001 ∷ drive 5890 0 0x02a00 ∷ drive 5890 7 0x10000 ∷ drive 5890 0 0x06a00 ∷ drive 5890 7 0x10103 ∷ drive 5945 7 0x18103 ∷ drive 5945 0 0x02a00 ∷ drive 5945 7 0x10000 ∷ drive 5945 0 0x06a00 ∷ drive 5945 7 0x10001 ∷ drive 6000 7 0x18001 ∷ drive 6000 0 0x02a00 ∷ drive 6000 7 0x10000 ∷ drive 6000 0 0x06a00 ∷ drive 6000 7 0x10019 ∷ drive 6055 7 0x18019 ∷ drive 6055 0 0x02a00 ∷ drive 6055 7 0x10000 ∷ drive 6055 0 0x06a00 ∷ drive 6055 7 0x00008 ∷ drive 6145 7 0x08008 ∷ drive 6145 0 0x02a00 ∷ drive 6145 7 0x00000 ∷ drive 6145 0 0x03a00 ∷ drive 6945 0 0x03a01 ∷ drive 7000 0 0x07a01 ∷ drive 7000 7 0x08000 ∷ drive 7000 0 0x03a00 ∷ drive 7000 7 0x00000 ∷ drive 7000 0 0x03b03 ∷ drive 7055 0 0x07b03 ∷ drive 7055 7 0x08000 ∷ drive 7055 0 0x03a00 ∷ drive 7055 7 0x00000 ∷ drive 7055 0 0x03a01 ∷ drive 7110 0 0x07a01 ∷ drive 7110 7 0x08000 ∷ drive 7110 0 0x03a00 ∷ drive 7110 7 0x00000 ∷ drive 7110 0 0x03a19 ∷ drive 7165 0 0x07a19 ∷ drive 7165 7 0x08000 ∷ drive 7165 0 0x03a00 ∷ drive 7165 7 0x00000 ∷ drive 7165 0 0x03a08 ∷ drive 7220 0 0x07a08 ∷ drive 7220 7 0x08000 ∷ drive 7220 0 0x03a00 ∷ drive 7220 7 0x00000 ∷ drive 7220 0 0x00a00 ∷ drive 7620 0 0x04a00 ∷ drive 7620 7 0x00008 ∷ drive 7675 7 0x08008 ∷ drive 7675 0 0x00a00 ∷ drive 7675 7 0x00000 ∷ drive 7675 0 0x04a00 ∷ drive 7675 7 0x00100 ∷ drive 7730 7 0x08100 ∷ drive 7730 0 0x00a00 ∷ drive 7730 7 0x00000 ∷ drive 7730 0 0x04a00 ∷ drive 7730 7 0x00100 ∷ drive 7785 7 0x08100 ∷ drive 7785 0 0x00a00 ∷ drive 7785 7 0x00000 ∷ drive 7785 0 0x04a00 ∷ drive 7785 7 0x00100 ∷ drive 7840 7 0x08100 ∷ drive 7840 0 0x00a00 ∷ drive 7840 7 0x00000 ∷ drive 7840 0 0x04a00 ∷ drive 7840 7 0x00001 ∷ drive 7895 7 0x08001 ∷ drive 7895 0 0x00a00 ∷ drive 7895 7 0x00000 ∷ drive 7895 0 0x04a00 ∷ drive 7895 7 0x00100 ∷ drive 7950 7 0x08100 ∷ drive 7950 0 0x00a00 ∷ drive 7950 7 0x00000 ∷ drive 7950 0 0x01200 ∷ drive 8750 0 0x01201 ∷ drive 8775 0 0x05201 ∷ drive 8805 0 0x01201 ∷ drive 8875 0 0x05201 ∷ [])) 8875 ≡ Lawful
unfolding union_below seen_with line_of ones form_out form_in
factor_25 = refl

factor_49_short : judged_whole (reverse (drive 1200 7 0x00280 ∷ drive 3600 7 0x00680 ∷ drive 4800 7 0x10781 ∷ drive 4890 7 0x10581 ∷ drive 5290 0 0x00200 ∷ drive 5380 7 0x10000 ∷ drive 5380 0 0x02a00 ∷ drive 5780 0 0x06a00 ∷ drive 5780 7 0x101c0 ∷ drive 5835 7 0x181c0 ∷ drive 5835 0 0x02a00 ∷ drive 5835 7 0x10000 ∷ drive 5835 0 0x06a00 ∷ drive 5835 7 0x10001 ∷ drive 5890 7 0x18001 ∷ drive 5890 0 0x02a00 ∷ drive 5890 7 0x10000 ∷ drive 5890 0 0x06a00 ∷ drive 5890 7 0x10103 ∷ drive 5945 7 0x18103 ∷ drive 5945 0 0x02a00 ∷ drive 5945 7 0x10000 ∷ drive 5945 0 0x06a00 ∷ drive 5945 7 0x10001 ∷ drive 6000 7 0x18001 ∷ drive 6000 0 0x02a00 ∷ drive 6000 7 0x10000 ∷ drive 6000 0 0x06a00 ∷ drive 6000 7 0x10031 ∷ drive 6055 7 0x18031 ∷ drive 6055 0 0x02a00 ∷ drive 6055 7 0x10000 ∷ drive 6055 0 0x06a00 ∷ drive 6055 7 0x00008 ∷ drive 6145 7 0x08008 ∷ drive 6145 0 0x02a00 ∷ drive 6145 7 0x00000 ∷ drive 6145 0 0x03a00 ∷ drive 6945 0 0x03a01 ∷ drive 7000 0 0x07a01 ∷ drive 7000 7 0x08000 ∷ drive 7000 0 0x03a00 ∷ drive 7000 7 0x00000 ∷ drive 7000 0 0x03b03 ∷ drive 7055 0 0x07b03 ∷ drive 7055 7 0x08000 ∷ drive 7055 0 0x03a00 ∷ drive 7055 7 0x00000 ∷ drive 7055 0 0x03a01 ∷ drive 7110 0 0x07a01 ∷ drive 7110 7 0x08000 ∷ drive 7110 0 0x03a00 ∷ drive 7110 7 0x00000 ∷ drive 7110 0 0x03a31 ∷ drive 7165 0 0x07a31 ∷ drive 7165 7 0x08000 ∷ drive 7165 0 0x03a00 ∷ drive 7165 7 0x00000 ∷ drive 7165 0 0x03a08 ∷ drive 7220 0 0x07a08 ∷ drive 7220 7 0x08000 ∷ drive 7220 0 0x03a00 ∷ drive 7220 7 0x00000 ∷ drive 7220 0 0x00a00 ∷ drive 7620 0 0x04a00 ∷ drive 7620 7 0x00008 ∷ drive 7675 7 0x08008 ∷ drive 7675 0 0x00a00 ∷ drive 7675 7 0x00000 ∷ drive 7675 0 0x04a00 ∷ drive 7675 7 0x00100 ∷ drive 7730 7 0x08100 ∷ drive 7730 0 0x00a00 ∷ drive 7730 7 0x00000 ∷ drive 7730 0 0x04a00 ∷ drive 7730 7 0x00100 ∷ drive 7785 7 0x08100 ∷ drive 7785 0 0x00a00 ∷ drive 7785 7 0x00000 ∷ drive 7785 0 0x04a00 ∷ drive 7785 7 0x00100 ∷ drive 7840 7 0x08100 ∷ drive 7840 0 0x00a00 ∷ drive 7840 7 0x00000 ∷ drive 7840 0 0x04a00 ∷ drive 7840 7 0x00001 ∷ drive 7895 7 0x08001 ∷ drive 7895 0 0x00a00 ∷ drive 7895 7 0x00000 ∷ drive 7895 0 0x04a00 ∷ drive 7895 7 0x00100 ∷ drive 7950 7 0x08100 ∷ drive 7950 0 0x00a00 ∷ drive 7950 7 0x00000 ∷ drive 7950 0 0x01200 ∷ drive 8750 0 0x01201 ∷ drive 8775 0 0x05201 ∷ drive 8805 0 0x01201 ∷ drive 8970 0 0x05201 ∷ [])) 8970 ≡ Broken 99 22
unfolding union_below seen_with line_of ones form_out form_in
factor_49_short = refl

factor_49 : judged_whole (reverse (drive 1200 7 0x00280 ∷ drive 3600 7 0x00680 ∷ drive 4800 7 0x10781 ∷ drive 4890 7 0x10581 ∷ drive 5290 0 0x00200 ∷ drive 5380 7 0x10000 ∷ drive 5380 0 0x02a00 ∷ drive 5780 0 0x06a00 ∷ drive 5780 7 0x101c0 ∷ drive 5835 7 0x181c0 ∷ drive 5835 0 0x02a00 ∷ drive 5835 7 0x10000 ∷ drive 5835 0 0x06a00 ∷ drive 5835 7 0x10001 ∷ drive 5890 7 0x18001 ∷ drive 5890 0 0x02a00 ∷ drive 5890 7 0x10000 ∷ drive 5890 0 0x06a00 ∷ drive 5890 7 0x10103 ∷ drive 5945 7 0x18103 ∷ drive 5945 0 0x02a00 ∷ drive 5945 7 0x10000 ∷ drive 5945 0 0x06a00 ∷ drive 5945 7 0x10001 ∷ drive 6000 7 0x18001 ∷ drive 6000 0 0x02a00 ∷ drive 6000 7 0x10000 ∷ drive 6000 0 0x06a00 ∷ drive 6000 7 0x10031 ∷ drive 6055 7 0x18031 ∷ drive 6055 0 0x02a00 ∷ drive 6055 7 0x10000 ∷ drive 6055 0 0x06a00 ∷ drive 6055 7 0x00008 ∷ drive 6145 7 0x08008 ∷ drive 6145 0 0x02a00 ∷ drive 6145 7 0x00000 ∷ drive 6145 0 0x03a00 ∷ drive 6945 0 0x03a01 ∷ drive 7000 0 0x07a01 ∷ drive 7000 7 0x08000 ∷ drive 7000 0 0x03a00 ∷ drive 7000 7 0x00000 ∷ drive 7000 0 0x03b03 ∷ drive 7055 0 0x07b03 ∷ drive 7055 7 0x08000 ∷ drive 7055 0 0x03a00 ∷ drive 7055 7 0x00000 ∷ drive 7055 0 0x03a01 ∷ drive 7110 0 0x07a01 ∷ drive 7110 7 0x08000 ∷ drive 7110 0 0x03a00 ∷ drive 7110 7 0x00000 ∷ drive 7110 0 0x03a31 ∷ drive 7165 0 0x07a31 ∷ drive 7165 7 0x08000 ∷ drive 7165 0 0x03a00 ∷ drive 7165 7 0x00000 ∷ drive 7165 0 0x03a08 ∷ drive 7220 0 0x07a08 ∷ drive 7220 7 0x08000 ∷ drive 7220 0 0x03a00 ∷ drive 7220 7 0x00000 ∷ drive 7220 0 0x00a00 ∷ drive 7620 0 0x04a00 ∷ drive 7620 7 0x00008 ∷ drive 7675 7 0x08008 ∷ drive 7675 0 0x00a00 ∷ drive 7675 7 0x00000 ∷ drive 7675 0 0x04a00 ∷ drive 7675 7 0x00100 ∷ drive 7730 7 0x08100 ∷ drive 7730 0 0x00a00 ∷ drive 7730 7 0x00000 ∷ drive 7730 0 0x04a00 ∷ drive 7730 7 0x00100 ∷ drive 7785 7 0x08100 ∷ drive 7785 0 0x00a00 ∷ drive 7785 7 0x00000 ∷ drive 7785 0 0x04a00 ∷ drive 7785 7 0x00100 ∷ drive 7840 7 0x08100 ∷ drive 7840 0 0x00a00 ∷ drive 7840 7 0x00000 ∷ drive 7840 0 0x04a00 ∷ drive 7840 7 0x00001 ∷ drive 7895 7 0x08001 ∷ drive 7895 0 0x00a00 ∷ drive 7895 7 0x00000 ∷ drive 7895 0 0x04a00 ∷ drive 7895 7 0x00100 ∷ drive 7950 7 0x08100 ∷ drive 7950 0 0x00a00 ∷ drive 7950 7 0x00000 ∷ drive 7950 0 0x01200 ∷ drive 8750 0 0x01201 ∷ drive 8775 0 0x05201 ∷ drive 8805 0 0x01201 ∷ drive 8971 0 0x05201 ∷ [])) 8971 ≡ Lawful
unfolding union_below seen_with line_of ones form_out form_in
factor_49 = refl

factor_50_short : judged_whole (reverse (drive 1200 7 0x00280 ∷ drive 3600 7 0x00680 ∷ drive 4800 7 0x10781 ∷ drive 4890 7 0x10581 ∷ drive 5290 0 0x00200 ∷ drive 5380 7 0x10000 ∷ drive 5380 0 0x02a00 ∷ drive 5780 0 0x06a00 ∷ drive 5780 7 0x101c0 ∷ drive 5835 7 0x181c0 ∷ drive 5835 0 0x02a00 ∷ drive 5835 7 0x10000 ∷ drive 5835 0 0x06a00 ∷ drive 5835 7 0x10001 ∷ drive 5890 7 0x18001 ∷ drive 5890 0 0x02a00 ∷ drive 5890 7 0x10000 ∷ drive 5890 0 0x06a00 ∷ drive 5890 7 0x10103 ∷ drive 5945 7 0x18103 ∷ drive 5945 0 0x02a00 ∷ drive 5945 7 0x10000 ∷ drive 5945 0 0x06a00 ∷ drive 5945 7 0x10001 ∷ drive 6000 7 0x18001 ∷ drive 6000 0 0x02a00 ∷ drive 6000 7 0x10000 ∷ drive 6000 0 0x06a00 ∷ drive 6000 7 0x10032 ∷ drive 6055 7 0x18032 ∷ drive 6055 0 0x02a00 ∷ drive 6055 7 0x10000 ∷ drive 6055 0 0x06a00 ∷ drive 6055 7 0x00008 ∷ drive 6145 7 0x08008 ∷ drive 6145 0 0x02a00 ∷ drive 6145 7 0x00000 ∷ drive 6145 0 0x03a00 ∷ drive 6945 0 0x03a01 ∷ drive 7000 0 0x07a01 ∷ drive 7000 7 0x08000 ∷ drive 7000 0 0x03a00 ∷ drive 7000 7 0x00000 ∷ drive 7000 0 0x03b03 ∷ drive 7055 0 0x07b03 ∷ drive 7055 7 0x08000 ∷ drive 7055 0 0x03a00 ∷ drive 7055 7 0x00000 ∷ drive 7055 0 0x03a01 ∷ drive 7110 0 0x07a01 ∷ drive 7110 7 0x08000 ∷ drive 7110 0 0x03a00 ∷ drive 7110 7 0x00000 ∷ drive 7110 0 0x03a32 ∷ drive 7165 0 0x07a32 ∷ drive 7165 7 0x08000 ∷ drive 7165 0 0x03a00 ∷ drive 7165 7 0x00000 ∷ drive 7165 0 0x03a08 ∷ drive 7220 0 0x07a08 ∷ drive 7220 7 0x08000 ∷ drive 7220 0 0x03a00 ∷ drive 7220 7 0x00000 ∷ drive 7220 0 0x00a00 ∷ drive 7620 0 0x04a00 ∷ drive 7620 7 0x00008 ∷ drive 7675 7 0x08008 ∷ drive 7675 0 0x00a00 ∷ drive 7675 7 0x00000 ∷ drive 7675 0 0x04a00 ∷ drive 7675 7 0x00100 ∷ drive 7730 7 0x08100 ∷ drive 7730 0 0x00a00 ∷ drive 7730 7 0x00000 ∷ drive 7730 0 0x04a00 ∷ drive 7730 7 0x00100 ∷ drive 7785 7 0x08100 ∷ drive 7785 0 0x00a00 ∷ drive 7785 7 0x00000 ∷ drive 7785 0 0x04a00 ∷ drive 7785 7 0x00100 ∷ drive 7840 7 0x08100 ∷ drive 7840 0 0x00a00 ∷ drive 7840 7 0x00000 ∷ drive 7840 0 0x04a00 ∷ drive 7840 7 0x00001 ∷ drive 7895 7 0x08001 ∷ drive 7895 0 0x00a00 ∷ drive 7895 7 0x00000 ∷ drive 7895 0 0x04a00 ∷ drive 7895 7 0x00100 ∷ drive 7950 7 0x08100 ∷ drive 7950 0 0x00a00 ∷ drive 7950 7 0x00000 ∷ drive 7950 0 0x01200 ∷ drive 8750 0 0x01201 ∷ drive 8805 0 0x05201 ∷ drive 8895 0 0x01201 ∷ drive 9004 0 0x05201 ∷ [])) 9004 ≡ Broken 99 22
unfolding union_below seen_with line_of ones form_out form_in
factor_50_short = refl

factor_50 : judged_whole (reverse (drive 1200 7 0x00280 ∷ drive 3600 7 0x00680 ∷ drive 4800 7 0x10781 ∷ drive 4890 7 0x10581 ∷ drive 5290 0 0x00200 ∷ drive 5380 7 0x10000 ∷ drive 5380 0 0x02a00 ∷ drive 5780 0 0x06a00 ∷ drive 5780 7 0x101c0 ∷ drive 5835 7 0x181c0 ∷ drive 5835 0 0x02a00 ∷ drive 5835 7 0x10000 ∷ drive 5835 0 0x06a00 ∷ drive 5835 7 0x10001 ∷ drive 5890 7 0x18001 ∷ drive 5890 0 0x02a00 ∷ drive 5890 7 0x10000 ∷ drive 5890 0 0x06a00 ∷ drive 5890 7 0x10103 ∷ drive 5945 7 0x18103 ∷ drive 5945 0 0x02a00 ∷ drive 5945 7 0x10000 ∷ drive 5945 0 0x06a00 ∷ drive 5945 7 0x10001 ∷ drive 6000 7 0x18001 ∷ drive 6000 0 0x02a00 ∷ drive 6000 7 0x10000 ∷ drive 6000 0 0x06a00 ∷ drive 6000 7 0x10032 ∷ drive 6055 7 0x18032 ∷ drive 6055 0 0x02a00 ∷ drive 6055 7 0x10000 ∷ drive 6055 0 0x06a00 ∷ drive 6055 7 0x00008 ∷ drive 6145 7 0x08008 ∷ drive 6145 0 0x02a00 ∷ drive 6145 7 0x00000 ∷ drive 6145 0 0x03a00 ∷ drive 6945 0 0x03a01 ∷ drive 7000 0 0x07a01 ∷ drive 7000 7 0x08000 ∷ drive 7000 0 0x03a00 ∷ drive 7000 7 0x00000 ∷ drive 7000 0 0x03b03 ∷ drive 7055 0 0x07b03 ∷ drive 7055 7 0x08000 ∷ drive 7055 0 0x03a00 ∷ drive 7055 7 0x00000 ∷ drive 7055 0 0x03a01 ∷ drive 7110 0 0x07a01 ∷ drive 7110 7 0x08000 ∷ drive 7110 0 0x03a00 ∷ drive 7110 7 0x00000 ∷ drive 7110 0 0x03a32 ∷ drive 7165 0 0x07a32 ∷ drive 7165 7 0x08000 ∷ drive 7165 0 0x03a00 ∷ drive 7165 7 0x00000 ∷ drive 7165 0 0x03a08 ∷ drive 7220 0 0x07a08 ∷ drive 7220 7 0x08000 ∷ drive 7220 0 0x03a00 ∷ drive 7220 7 0x00000 ∷ drive 7220 0 0x00a00 ∷ drive 7620 0 0x04a00 ∷ drive 7620 7 0x00008 ∷ drive 7675 7 0x08008 ∷ drive 7675 0 0x00a00 ∷ drive 7675 7 0x00000 ∷ drive 7675 0 0x04a00 ∷ drive 7675 7 0x00100 ∷ drive 7730 7 0x08100 ∷ drive 7730 0 0x00a00 ∷ drive 7730 7 0x00000 ∷ drive 7730 0 0x04a00 ∷ drive 7730 7 0x00100 ∷ drive 7785 7 0x08100 ∷ drive 7785 0 0x00a00 ∷ drive 7785 7 0x00000 ∷ drive 7785 0 0x04a00 ∷ drive 7785 7 0x00100 ∷ drive 7840 7 0x08100 ∷ drive 7840 0 0x00a00 ∷ drive 7840 7 0x00000 ∷ drive 7840 0 0x04a00 ∷ drive 7840 7 0x00001 ∷ drive 7895 7 0x08001 ∷ drive 7895 0 0x00a00 ∷ drive 7895 7 0x00000 ∷ drive 7895 0 0x04a00 ∷ drive 7895 7 0x00100 ∷ drive 7950 7 0x08100 ∷ drive 7950 0 0x00a00 ∷ drive 7950 7 0x00000 ∷ drive 7950 0 0x01200 ∷ drive 8750 0 0x01201 ∷ drive 8805 0 0x05201 ∷ drive 8895 0 0x01201 ∷ drive 9005 0 0x05201 ∷ [])) 9005 ≡ Lawful
unfolding union_below seen_with line_of ones form_out form_in
factor_50 = refl

factor_255_short : judged_whole (reverse (drive 1200 7 0x00280 ∷ drive 3600 7 0x00680 ∷ drive 4800 7 0x10781 ∷ drive 4890 7 0x10581 ∷ drive 5290 0 0x00200 ∷ drive 5380 7 0x10000 ∷ drive 5380 0 0x02a00 ∷ drive 5780 0 0x06a00 ∷ drive 5780 7 0x101c0 ∷ drive 5835 7 0x181c0 ∷ drive 5835 0 0x02a00 ∷ drive 5835 7 0x10000 ∷ drive 5835 0 0x06a00 ∷ drive 5835 7 0x10001 ∷ drive 5890 7 0x18001 ∷ drive 5890 0 0x02a00 ∷ drive 5890 7 0x10000 ∷ drive 5890 0 0x06a00 ∷ drive 5890 7 0x10103 ∷ drive 5945 7 0x18103 ∷ drive 5945 0 0x02a00 ∷ drive 5945 7 0x10000 ∷ drive 5945 0 0x06a00 ∷ drive 5945 7 0x10001 ∷ drive 6000 7 0x18001 ∷ drive 6000 0 0x02a00 ∷ drive 6000 7 0x10000 ∷ drive 6000 0 0x06a00 ∷ drive 6000 7 0x101ff ∷ drive 6055 7 0x181ff ∷ drive 6055 0 0x02a00 ∷ drive 6055 7 0x10000 ∷ drive 6055 0 0x06a00 ∷ drive 6055 7 0x00008 ∷ drive 6145 7 0x08008 ∷ drive 6145 0 0x02a00 ∷ drive 6145 7 0x00000 ∷ drive 6145 0 0x03a00 ∷ drive 6945 0 0x03a01 ∷ drive 7000 0 0x07a01 ∷ drive 7000 7 0x08000 ∷ drive 7000 0 0x03a00 ∷ drive 7000 7 0x00000 ∷ drive 7000 0 0x03b03 ∷ drive 7055 0 0x07b03 ∷ drive 7055 7 0x08000 ∷ drive 7055 0 0x03a00 ∷ drive 7055 7 0x00000 ∷ drive 7055 0 0x03a01 ∷ drive 7110 0 0x07a01 ∷ drive 7110 7 0x08000 ∷ drive 7110 0 0x03a00 ∷ drive 7110 7 0x00000 ∷ drive 7110 0 0x03bff ∷ drive 7165 0 0x07bff ∷ drive 7165 7 0x08000 ∷ drive 7165 0 0x03a00 ∷ drive 7165 7 0x00000 ∷ drive 7165 0 0x03a08 ∷ drive 7220 0 0x07a08 ∷ drive 7220 7 0x08000 ∷ drive 7220 0 0x03a00 ∷ drive 7220 7 0x00000 ∷ drive 7220 0 0x00a00 ∷ drive 7620 0 0x04a00 ∷ drive 7620 7 0x00008 ∷ drive 7675 7 0x08008 ∷ drive 7675 0 0x00a00 ∷ drive 7675 7 0x00000 ∷ drive 7675 0 0x04a00 ∷ drive 7675 7 0x00100 ∷ drive 7730 7 0x08100 ∷ drive 7730 0 0x00a00 ∷ drive 7730 7 0x00000 ∷ drive 7730 0 0x04a00 ∷ drive 7730 7 0x00100 ∷ drive 7785 7 0x08100 ∷ drive 7785 0 0x00a00 ∷ drive 7785 7 0x00000 ∷ drive 7785 0 0x04a00 ∷ drive 7785 7 0x00100 ∷ drive 7840 7 0x08100 ∷ drive 7840 0 0x00a00 ∷ drive 7840 7 0x00000 ∷ drive 7840 0 0x04a00 ∷ drive 7840 7 0x00001 ∷ drive 7895 7 0x08001 ∷ drive 7895 0 0x00a00 ∷ drive 7895 7 0x00000 ∷ drive 7895 0 0x04a00 ∷ drive 7895 7 0x00100 ∷ drive 7950 7 0x08100 ∷ drive 7950 0 0x00a00 ∷ drive 7950 7 0x00000 ∷ drive 7950 0 0x01200 ∷ drive 8750 0 0x01201 ∷ drive 8805 0 0x05201 ∷ drive 8895 0 0x01201 ∷ drive 9824 0 0x05201 ∷ [])) 9824 ≡ Broken 99 22
unfolding union_below seen_with line_of ones form_out form_in
factor_255_short = refl

factor_255 : judged_whole (reverse (drive 1200 7 0x00280 ∷ drive 3600 7 0x00680 ∷ drive 4800 7 0x10781 ∷ drive 4890 7 0x10581 ∷ drive 5290 0 0x00200 ∷ drive 5380 7 0x10000 ∷ drive 5380 0 0x02a00 ∷ drive 5780 0 0x06a00 ∷ drive 5780 7 0x101c0 ∷ drive 5835 7 0x181c0 ∷ drive 5835 0 0x02a00 ∷ drive 5835 7 0x10000 ∷ drive 5835 0 0x06a00 ∷ drive 5835 7 0x10001 ∷ drive 5890 7 0x18001 ∷ drive 5890 0 0x02a00 ∷ drive 5890 7 0x10000 ∷ drive 5890 0 0x06a00 ∷ drive 5890 7 0x10103 ∷ drive 5945 7 0x18103 ∷ drive 5945 0 0x02a00 ∷ drive 5945 7 0x10000 ∷ drive 5945 0 0x06a00 ∷ drive 5945 7 0x10001 ∷ drive 6000 7 0x18001 ∷ drive 6000 0 0x02a00 ∷ drive 6000 7 0x10000 ∷ drive 6000 0 0x06a00 ∷ drive 6000 7 0x101ff ∷ drive 6055 7 0x181ff ∷ drive 6055 0 0x02a00 ∷ drive 6055 7 0x10000 ∷ drive 6055 0 0x06a00 ∷ drive 6055 7 0x00008 ∷ drive 6145 7 0x08008 ∷ drive 6145 0 0x02a00 ∷ drive 6145 7 0x00000 ∷ drive 6145 0 0x03a00 ∷ drive 6945 0 0x03a01 ∷ drive 7000 0 0x07a01 ∷ drive 7000 7 0x08000 ∷ drive 7000 0 0x03a00 ∷ drive 7000 7 0x00000 ∷ drive 7000 0 0x03b03 ∷ drive 7055 0 0x07b03 ∷ drive 7055 7 0x08000 ∷ drive 7055 0 0x03a00 ∷ drive 7055 7 0x00000 ∷ drive 7055 0 0x03a01 ∷ drive 7110 0 0x07a01 ∷ drive 7110 7 0x08000 ∷ drive 7110 0 0x03a00 ∷ drive 7110 7 0x00000 ∷ drive 7110 0 0x03bff ∷ drive 7165 0 0x07bff ∷ drive 7165 7 0x08000 ∷ drive 7165 0 0x03a00 ∷ drive 7165 7 0x00000 ∷ drive 7165 0 0x03a08 ∷ drive 7220 0 0x07a08 ∷ drive 7220 7 0x08000 ∷ drive 7220 0 0x03a00 ∷ drive 7220 7 0x00000 ∷ drive 7220 0 0x00a00 ∷ drive 7620 0 0x04a00 ∷ drive 7620 7 0x00008 ∷ drive 7675 7 0x08008 ∷ drive 7675 0 0x00a00 ∷ drive 7675 7 0x00000 ∷ drive 7675 0 0x04a00 ∷ drive 7675 7 0x00100 ∷ drive 7730 7 0x08100 ∷ drive 7730 0 0x00a00 ∷ drive 7730 7 0x00000 ∷ drive 7730 0 0x04a00 ∷ drive 7730 7 0x00100 ∷ drive 7785 7 0x08100 ∷ drive 7785 0 0x00a00 ∷ drive 7785 7 0x00000 ∷ drive 7785 0 0x04a00 ∷ drive 7785 7 0x00100 ∷ drive 7840 7 0x08100 ∷ drive 7840 0 0x00a00 ∷ drive 7840 7 0x00000 ∷ drive 7840 0 0x04a00 ∷ drive 7840 7 0x00001 ∷ drive 7895 7 0x08001 ∷ drive 7895 0 0x00a00 ∷ drive 7895 7 0x00000 ∷ drive 7895 0 0x04a00 ∷ drive 7895 7 0x00100 ∷ drive 7950 7 0x08100 ∷ drive 7950 0 0x00a00 ∷ drive 7950 7 0x00000 ∷ drive 7950 0 0x01200 ∷ drive 8750 0 0x01201 ∷ drive 8805 0 0x05201 ∷ drive 8895 0 0x01201 ∷ drive 9825 0 0x05201 ∷ [])) 9825 ≡ Lawful
unfolding union_below seen_with line_of ones form_out form_in
factor_255 = refl

leaves_unanswered : judged_whole (reverse (drive 1200 7 0x00280 ∷ drive 3600 7 0x00680 ∷ drive 4800 7 0x10781 ∷ drive 4890 7 0x10581 ∷ drive 5290 0 0x00200 ∷ drive 5380 7 0x10000 ∷ drive 5380 0 0x02a00 ∷ drive 5780 0 0x06a00 ∷ drive 5780 7 0x101c0 ∷ drive 5835 7 0x181c0 ∷ drive 5835 0 0x02a00 ∷ drive 5835 7 0x10000 ∷ drive 5835 0 0x06a00 ∷ drive 5835 7 0x10001 ∷ drive 5890 7 0x18001 ∷ drive 5890 0 0x02a00 ∷ drive 5890 7 0x10000 ∷ drive 5890 0 0x06a00 ∷ drive 5890 7 0x10103 ∷ drive 5945 7 0x18103 ∷ drive 5945 0 0x02a00 ∷ drive 5945 7 0x10000 ∷ drive 5945 0 0x06a00 ∷ drive 5945 7 0x10001 ∷ drive 6000 7 0x18001 ∷ drive 6000 0 0x02a00 ∷ drive 6000 7 0x10000 ∷ drive 6000 0 0x06a00 ∷ drive 6000 7 0x10032 ∷ drive 6055 7 0x18032 ∷ drive 6055 0 0x02a00 ∷ drive 6055 7 0x10000 ∷ drive 6055 0 0x06a00 ∷ drive 6055 7 0x00008 ∷ drive 6145 7 0x08008 ∷ drive 6145 0 0x02a00 ∷ drive 6145 7 0x00000 ∷ drive 6145 0 0x03a00 ∷ drive 6945 0 0x03a01 ∷ drive 7000 0 0x07a01 ∷ drive 7000 7 0x08000 ∷ drive 7000 0 0x03a00 ∷ drive 7000 7 0x00000 ∷ drive 7000 0 0x03b03 ∷ drive 7055 0 0x07b03 ∷ drive 7055 7 0x08000 ∷ drive 7055 0 0x03a00 ∷ drive 7055 7 0x00000 ∷ drive 7055 0 0x03a01 ∷ drive 7110 0 0x07a01 ∷ drive 7110 7 0x08000 ∷ drive 7110 0 0x03a00 ∷ drive 7110 7 0x00000 ∷ drive 7110 0 0x03a32 ∷ drive 7165 0 0x07a32 ∷ drive 7165 7 0x08000 ∷ drive 7165 0 0x03a00 ∷ drive 7165 7 0x00000 ∷ drive 7165 0 0x03a08 ∷ drive 7220 0 0x07a08 ∷ drive 7220 7 0x08000 ∷ drive 7220 0 0x03a00 ∷ drive 7220 7 0x00000 ∷ drive 7220 0 0x00a00 ∷ drive 7620 0 0x04a00 ∷ drive 7620 7 0x00008 ∷ drive 7675 7 0x08008 ∷ drive 7675 0 0x00a00 ∷ drive 7675 7 0x00000 ∷ drive 7675 0 0x04a00 ∷ drive 7675 7 0x00100 ∷ drive 7730 7 0x08100 ∷ drive 7730 0 0x00a00 ∷ drive 7730 7 0x00000 ∷ drive 7730 0 0x04a00 ∷ drive 7730 7 0x00100 ∷ drive 7785 7 0x08100 ∷ drive 7785 0 0x00a00 ∷ drive 7785 7 0x00000 ∷ drive 7785 0 0x04a00 ∷ drive 7785 7 0x00100 ∷ drive 7840 7 0x08100 ∷ drive 7840 0 0x00a00 ∷ drive 7840 7 0x00000 ∷ drive 7840 0 0x04a00 ∷ drive 7840 7 0x00001 ∷ drive 7895 7 0x08001 ∷ drive 7895 0 0x00a00 ∷ drive 7895 7 0x00000 ∷ drive 7895 0 0x04a00 ∷ drive 7895 7 0x00100 ∷ drive 7950 7 0x08100 ∷ drive 7950 0 0x00a00 ∷ drive 7950 7 0x00000 ∷ drive 7950 0 0x01200 ∷ drive 8750 0 0x01201 ∷ drive 8805 0 0x05201 ∷ drive 8895 0 0x01201 ∷ drive 9005 0 0x01b01 ∷ [])) 9005 ≡ Broken 99 23
unfolding union_below seen_with line_of ones form_out form_in
leaves_unanswered = refl

leaves_answered : judged_whole (reverse (drive 1200 7 0x00280 ∷ drive 3600 7 0x00680 ∷ drive 4800 7 0x10781 ∷ drive 4890 7 0x10581 ∷ drive 5290 0 0x00200 ∷ drive 5380 7 0x10000 ∷ drive 5380 0 0x02a00 ∷ drive 5780 0 0x06a00 ∷ drive 5780 7 0x101c0 ∷ drive 5835 7 0x181c0 ∷ drive 5835 0 0x02a00 ∷ drive 5835 7 0x10000 ∷ drive 5835 0 0x06a00 ∷ drive 5835 7 0x10001 ∷ drive 5890 7 0x18001 ∷ drive 5890 0 0x02a00 ∷ drive 5890 7 0x10000 ∷ drive 5890 0 0x06a00 ∷ drive 5890 7 0x10103 ∷ drive 5945 7 0x18103 ∷ drive 5945 0 0x02a00 ∷ drive 5945 7 0x10000 ∷ drive 5945 0 0x06a00 ∷ drive 5945 7 0x10001 ∷ drive 6000 7 0x18001 ∷ drive 6000 0 0x02a00 ∷ drive 6000 7 0x10000 ∷ drive 6000 0 0x06a00 ∷ drive 6000 7 0x10032 ∷ drive 6055 7 0x18032 ∷ drive 6055 0 0x02a00 ∷ drive 6055 7 0x10000 ∷ drive 6055 0 0x06a00 ∷ drive 6055 7 0x00008 ∷ drive 6145 7 0x08008 ∷ drive 6145 0 0x02a00 ∷ drive 6145 7 0x00000 ∷ drive 6145 0 0x03a00 ∷ drive 6945 0 0x03a01 ∷ drive 7000 0 0x07a01 ∷ drive 7000 7 0x08000 ∷ drive 7000 0 0x03a00 ∷ drive 7000 7 0x00000 ∷ drive 7000 0 0x03b03 ∷ drive 7055 0 0x07b03 ∷ drive 7055 7 0x08000 ∷ drive 7055 0 0x03a00 ∷ drive 7055 7 0x00000 ∷ drive 7055 0 0x03a01 ∷ drive 7110 0 0x07a01 ∷ drive 7110 7 0x08000 ∷ drive 7110 0 0x03a00 ∷ drive 7110 7 0x00000 ∷ drive 7110 0 0x03a32 ∷ drive 7165 0 0x07a32 ∷ drive 7165 7 0x08000 ∷ drive 7165 0 0x03a00 ∷ drive 7165 7 0x00000 ∷ drive 7165 0 0x03a08 ∷ drive 7220 0 0x07a08 ∷ drive 7220 7 0x08000 ∷ drive 7220 0 0x03a00 ∷ drive 7220 7 0x00000 ∷ drive 7220 0 0x00a00 ∷ drive 7620 0 0x04a00 ∷ drive 7620 7 0x00008 ∷ drive 7675 7 0x08008 ∷ drive 7675 0 0x00a00 ∷ drive 7675 7 0x00000 ∷ drive 7675 0 0x04a00 ∷ drive 7675 7 0x00100 ∷ drive 7730 7 0x08100 ∷ drive 7730 0 0x00a00 ∷ drive 7730 7 0x00000 ∷ drive 7730 0 0x04a00 ∷ drive 7730 7 0x00100 ∷ drive 7785 7 0x08100 ∷ drive 7785 0 0x00a00 ∷ drive 7785 7 0x00000 ∷ drive 7785 0 0x04a00 ∷ drive 7785 7 0x00100 ∷ drive 7840 7 0x08100 ∷ drive 7840 0 0x00a00 ∷ drive 7840 7 0x00000 ∷ drive 7840 0 0x04a00 ∷ drive 7840 7 0x00001 ∷ drive 7895 7 0x08001 ∷ drive 7895 0 0x00a00 ∷ drive 7895 7 0x00000 ∷ drive 7895 0 0x04a00 ∷ drive 7895 7 0x00100 ∷ drive 7950 7 0x08100 ∷ drive 7950 0 0x00a00 ∷ drive 7950 7 0x00000 ∷ drive 7950 0 0x01200 ∷ drive 8750 0 0x01201 ∷ drive 8805 0 0x05201 ∷ drive 8895 0 0x01201 ∷ drive 8895 7 0x08000 ∷ drive 8985 7 0x00000 ∷ drive 9005 0 0x01b01 ∷ [])) 9005 ≡ Lawful
unfolding union_below seen_with line_of ones form_out form_in
leaves_answered = refl

frees_unanswered : judged_whole (reverse (drive 1200 7 0x00280 ∷ drive 3600 7 0x00680 ∷ drive 4800 7 0x10781 ∷ drive 4890 7 0x10581 ∷ drive 5290 0 0x00200 ∷ drive 5380 7 0x10000 ∷ drive 5380 0 0x02a00 ∷ drive 5780 0 0x06a00 ∷ drive 5780 7 0x101c0 ∷ drive 5835 7 0x181c0 ∷ drive 5835 0 0x02a00 ∷ drive 5835 7 0x10000 ∷ drive 5835 0 0x06a00 ∷ drive 5835 7 0x10001 ∷ drive 5890 7 0x18001 ∷ drive 5890 0 0x02a00 ∷ drive 5890 7 0x10000 ∷ drive 5890 0 0x06a00 ∷ drive 5890 7 0x10103 ∷ drive 5945 7 0x18103 ∷ drive 5945 0 0x02a00 ∷ drive 5945 7 0x10000 ∷ drive 5945 0 0x06a00 ∷ drive 5945 7 0x10001 ∷ drive 6000 7 0x18001 ∷ drive 6000 0 0x02a00 ∷ drive 6000 7 0x10000 ∷ drive 6000 0 0x06a00 ∷ drive 6000 7 0x10032 ∷ drive 6055 7 0x18032 ∷ drive 6055 0 0x02a00 ∷ drive 6055 7 0x10000 ∷ drive 6055 0 0x06a00 ∷ drive 6055 7 0x00008 ∷ drive 6145 7 0x08008 ∷ drive 6145 0 0x02a00 ∷ drive 6145 7 0x00000 ∷ drive 6145 0 0x03a00 ∷ drive 6945 0 0x03a01 ∷ drive 7000 0 0x07a01 ∷ drive 7000 7 0x08000 ∷ drive 7000 0 0x03a00 ∷ drive 7000 7 0x00000 ∷ drive 7000 0 0x03b03 ∷ drive 7055 0 0x07b03 ∷ drive 7055 7 0x08000 ∷ drive 7055 0 0x03a00 ∷ drive 7055 7 0x00000 ∷ drive 7055 0 0x03a01 ∷ drive 7110 0 0x07a01 ∷ drive 7110 7 0x08000 ∷ drive 7110 0 0x03a00 ∷ drive 7110 7 0x00000 ∷ drive 7110 0 0x03a32 ∷ drive 7165 0 0x07a32 ∷ drive 7165 7 0x08000 ∷ drive 7165 0 0x03a00 ∷ drive 7165 7 0x00000 ∷ drive 7165 0 0x03a08 ∷ drive 7220 0 0x07a08 ∷ drive 7220 7 0x08000 ∷ drive 7220 0 0x03a00 ∷ drive 7220 7 0x00000 ∷ drive 7220 0 0x00a00 ∷ drive 7620 0 0x04a00 ∷ drive 7620 7 0x00008 ∷ drive 7675 7 0x08008 ∷ drive 7675 0 0x00a00 ∷ drive 7675 7 0x00000 ∷ drive 7675 0 0x04a00 ∷ drive 7675 7 0x00100 ∷ drive 7730 7 0x08100 ∷ drive 7730 0 0x00a00 ∷ drive 7730 7 0x00000 ∷ drive 7730 0 0x04a00 ∷ drive 7730 7 0x00100 ∷ drive 7785 7 0x08100 ∷ drive 7785 0 0x00a00 ∷ drive 7785 7 0x00000 ∷ drive 7785 0 0x04a00 ∷ drive 7785 7 0x00100 ∷ drive 7840 7 0x08100 ∷ drive 7840 0 0x00a00 ∷ drive 7840 7 0x00000 ∷ drive 7840 0 0x04a00 ∷ drive 7840 7 0x00001 ∷ drive 7895 7 0x08001 ∷ drive 7895 0 0x00a00 ∷ drive 7895 7 0x00000 ∷ drive 7895 0 0x04a00 ∷ drive 7895 7 0x00100 ∷ drive 7950 7 0x08100 ∷ drive 7950 0 0x00a00 ∷ drive 7950 7 0x00000 ∷ drive 7950 0 0x01200 ∷ drive 8750 0 0x01201 ∷ drive 8805 0 0x05201 ∷ drive 8895 0 0x01201 ∷ drive 9005 0 0x00000 ∷ [])) 9005 ≡ Broken 99 23
unfolding union_below seen_with line_of ones form_out form_in
frees_unanswered = refl

bsy_alone_leaves_unanswered : judged_whole (reverse (drive 1200 7 0x00280 ∷ drive 3600 7 0x00680 ∷ drive 4800 7 0x10781 ∷ drive 4890 7 0x10581 ∷ drive 5290 0 0x00200 ∷ drive 5380 7 0x10000 ∷ drive 5380 0 0x02a00 ∷ drive 5780 0 0x06a00 ∷ drive 5780 7 0x101c0 ∷ drive 5835 7 0x181c0 ∷ drive 5835 0 0x02a00 ∷ drive 5835 7 0x10000 ∷ drive 5835 0 0x06a00 ∷ drive 5835 7 0x10001 ∷ drive 5890 7 0x18001 ∷ drive 5890 0 0x02a00 ∷ drive 5890 7 0x10000 ∷ drive 5890 0 0x06a00 ∷ drive 5890 7 0x10103 ∷ drive 5945 7 0x18103 ∷ drive 5945 0 0x02a00 ∷ drive 5945 7 0x10000 ∷ drive 5945 0 0x06a00 ∷ drive 5945 7 0x10001 ∷ drive 6000 7 0x18001 ∷ drive 6000 0 0x02a00 ∷ drive 6000 7 0x10000 ∷ drive 6000 0 0x06a00 ∷ drive 6000 7 0x10032 ∷ drive 6055 7 0x18032 ∷ drive 6055 0 0x02a00 ∷ drive 6055 7 0x10000 ∷ drive 6055 0 0x06a00 ∷ drive 6055 7 0x00008 ∷ drive 6145 7 0x08008 ∷ drive 6145 0 0x02a00 ∷ drive 6145 7 0x00000 ∷ drive 6145 0 0x03a00 ∷ drive 6945 0 0x03a01 ∷ drive 7000 0 0x07a01 ∷ drive 7000 7 0x08000 ∷ drive 7000 0 0x03a00 ∷ drive 7000 7 0x00000 ∷ drive 7000 0 0x03b03 ∷ drive 7055 0 0x07b03 ∷ drive 7055 7 0x08000 ∷ drive 7055 0 0x03a00 ∷ drive 7055 7 0x00000 ∷ drive 7055 0 0x03a01 ∷ drive 7110 0 0x07a01 ∷ drive 7110 7 0x08000 ∷ drive 7110 0 0x03a00 ∷ drive 7110 7 0x00000 ∷ drive 7110 0 0x03a32 ∷ drive 7165 0 0x07a32 ∷ drive 7165 7 0x08000 ∷ drive 7165 0 0x03a00 ∷ drive 7165 7 0x00000 ∷ drive 7165 0 0x03a08 ∷ drive 7220 0 0x07a08 ∷ drive 7220 7 0x08000 ∷ drive 7220 0 0x03a00 ∷ drive 7220 7 0x00000 ∷ drive 7220 0 0x00a00 ∷ drive 7620 0 0x04a00 ∷ drive 7620 7 0x00008 ∷ drive 7675 7 0x08008 ∷ drive 7675 0 0x00a00 ∷ drive 7675 7 0x00000 ∷ drive 7675 0 0x04a00 ∷ drive 7675 7 0x00100 ∷ drive 7730 7 0x08100 ∷ drive 7730 0 0x00a00 ∷ drive 7730 7 0x00000 ∷ drive 7730 0 0x04a00 ∷ drive 7730 7 0x00100 ∷ drive 7785 7 0x08100 ∷ drive 7785 0 0x00a00 ∷ drive 7785 7 0x00000 ∷ drive 7785 0 0x04a00 ∷ drive 7785 7 0x00100 ∷ drive 7840 7 0x08100 ∷ drive 7840 0 0x00a00 ∷ drive 7840 7 0x00000 ∷ drive 7840 0 0x04a00 ∷ drive 7840 7 0x00001 ∷ drive 7895 7 0x08001 ∷ drive 7895 0 0x00a00 ∷ drive 7895 7 0x00000 ∷ drive 7895 0 0x04a00 ∷ drive 7895 7 0x00100 ∷ drive 7950 7 0x08100 ∷ drive 7950 0 0x00a00 ∷ drive 7950 7 0x00000 ∷ drive 7950 0 0x01200 ∷ drive 8750 0 0x01201 ∷ drive 8805 0 0x05201 ∷ drive 8895 0 0x01201 ∷ drive 9005 0 0x01000 ∷ [])) 9005 ≡ Broken 99 23
unfolding union_below seen_with line_of ones form_out form_in
bsy_alone_leaves_unanswered = refl

bsy_alone_leaves_answered : judged_whole (reverse (drive 1200 7 0x00280 ∷ drive 3600 7 0x00680 ∷ drive 4800 7 0x10781 ∷ drive 4890 7 0x10581 ∷ drive 5290 0 0x00200 ∷ drive 5380 7 0x10000 ∷ drive 5380 0 0x02a00 ∷ drive 5780 0 0x06a00 ∷ drive 5780 7 0x101c0 ∷ drive 5835 7 0x181c0 ∷ drive 5835 0 0x02a00 ∷ drive 5835 7 0x10000 ∷ drive 5835 0 0x06a00 ∷ drive 5835 7 0x10001 ∷ drive 5890 7 0x18001 ∷ drive 5890 0 0x02a00 ∷ drive 5890 7 0x10000 ∷ drive 5890 0 0x06a00 ∷ drive 5890 7 0x10103 ∷ drive 5945 7 0x18103 ∷ drive 5945 0 0x02a00 ∷ drive 5945 7 0x10000 ∷ drive 5945 0 0x06a00 ∷ drive 5945 7 0x10001 ∷ drive 6000 7 0x18001 ∷ drive 6000 0 0x02a00 ∷ drive 6000 7 0x10000 ∷ drive 6000 0 0x06a00 ∷ drive 6000 7 0x10032 ∷ drive 6055 7 0x18032 ∷ drive 6055 0 0x02a00 ∷ drive 6055 7 0x10000 ∷ drive 6055 0 0x06a00 ∷ drive 6055 7 0x00008 ∷ drive 6145 7 0x08008 ∷ drive 6145 0 0x02a00 ∷ drive 6145 7 0x00000 ∷ drive 6145 0 0x03a00 ∷ drive 6945 0 0x03a01 ∷ drive 7000 0 0x07a01 ∷ drive 7000 7 0x08000 ∷ drive 7000 0 0x03a00 ∷ drive 7000 7 0x00000 ∷ drive 7000 0 0x03b03 ∷ drive 7055 0 0x07b03 ∷ drive 7055 7 0x08000 ∷ drive 7055 0 0x03a00 ∷ drive 7055 7 0x00000 ∷ drive 7055 0 0x03a01 ∷ drive 7110 0 0x07a01 ∷ drive 7110 7 0x08000 ∷ drive 7110 0 0x03a00 ∷ drive 7110 7 0x00000 ∷ drive 7110 0 0x03a32 ∷ drive 7165 0 0x07a32 ∷ drive 7165 7 0x08000 ∷ drive 7165 0 0x03a00 ∷ drive 7165 7 0x00000 ∷ drive 7165 0 0x03a08 ∷ drive 7220 0 0x07a08 ∷ drive 7220 7 0x08000 ∷ drive 7220 0 0x03a00 ∷ drive 7220 7 0x00000 ∷ drive 7220 0 0x00a00 ∷ drive 7620 0 0x04a00 ∷ drive 7620 7 0x00008 ∷ drive 7675 7 0x08008 ∷ drive 7675 0 0x00a00 ∷ drive 7675 7 0x00000 ∷ drive 7675 0 0x04a00 ∷ drive 7675 7 0x00100 ∷ drive 7730 7 0x08100 ∷ drive 7730 0 0x00a00 ∷ drive 7730 7 0x00000 ∷ drive 7730 0 0x04a00 ∷ drive 7730 7 0x00100 ∷ drive 7785 7 0x08100 ∷ drive 7785 0 0x00a00 ∷ drive 7785 7 0x00000 ∷ drive 7785 0 0x04a00 ∷ drive 7785 7 0x00100 ∷ drive 7840 7 0x08100 ∷ drive 7840 0 0x00a00 ∷ drive 7840 7 0x00000 ∷ drive 7840 0 0x04a00 ∷ drive 7840 7 0x00001 ∷ drive 7895 7 0x08001 ∷ drive 7895 0 0x00a00 ∷ drive 7895 7 0x00000 ∷ drive 7895 0 0x04a00 ∷ drive 7895 7 0x00100 ∷ drive 7950 7 0x08100 ∷ drive 7950 0 0x00a00 ∷ drive 7950 7 0x00000 ∷ drive 7950 0 0x01200 ∷ drive 8750 0 0x01201 ∷ drive 8805 0 0x05201 ∷ drive 8895 0 0x01201 ∷ drive 8895 7 0x08000 ∷ drive 8985 7 0x00000 ∷ drive 9005 0 0x01000 ∷ [])) 9005 ≡ Lawful
unfolding union_below seen_with line_of ones form_out form_in
bsy_alone_leaves_answered = refl

out_set_up_54 : judged_whole (reverse (drive 1200 7 0x00280 ∷ drive 3600 7 0x00680 ∷ drive 4800 7 0x10781 ∷ drive 4890 7 0x10581 ∷ drive 5290 0 0x00200 ∷ drive 5380 7 0x10000 ∷ drive 5380 0 0x02a00 ∷ drive 5780 0 0x06a00 ∷ drive 5780 7 0x101c0 ∷ drive 5835 7 0x181c0 ∷ drive 5835 0 0x02a00 ∷ drive 5835 7 0x10000 ∷ drive 5835 0 0x06a00 ∷ drive 5835 7 0x10001 ∷ drive 5890 7 0x18001 ∷ drive 5890 0 0x02a00 ∷ drive 5890 7 0x10000 ∷ drive 5890 0 0x06a00 ∷ drive 5890 7 0x10103 ∷ drive 5945 7 0x18103 ∷ drive 5945 0 0x02a00 ∷ drive 5945 7 0x10000 ∷ drive 5945 0 0x06a00 ∷ drive 5945 7 0x10001 ∷ drive 6000 7 0x18001 ∷ drive 6000 0 0x02a00 ∷ drive 6000 7 0x10000 ∷ drive 6000 0 0x06a00 ∷ drive 6000 7 0x10032 ∷ drive 6055 7 0x18032 ∷ drive 6055 0 0x02a00 ∷ drive 6055 7 0x10000 ∷ drive 6055 0 0x06a00 ∷ drive 6055 7 0x0010a ∷ drive 6145 7 0x0810a ∷ drive 6145 0 0x02a00 ∷ drive 6145 7 0x00000 ∷ drive 6145 0 0x03a00 ∷ drive 6945 0 0x03a01 ∷ drive 7000 0 0x07a01 ∷ drive 7000 7 0x08000 ∷ drive 7000 0 0x03a00 ∷ drive 7000 7 0x00000 ∷ drive 7000 0 0x03b03 ∷ drive 7055 0 0x07b03 ∷ drive 7055 7 0x08000 ∷ drive 7055 0 0x03a00 ∷ drive 7055 7 0x00000 ∷ drive 7055 0 0x03a01 ∷ drive 7110 0 0x07a01 ∷ drive 7110 7 0x08000 ∷ drive 7110 0 0x03a00 ∷ drive 7110 7 0x00000 ∷ drive 7110 0 0x03a32 ∷ drive 7165 0 0x07a32 ∷ drive 7165 7 0x08000 ∷ drive 7165 0 0x03a00 ∷ drive 7165 7 0x00000 ∷ drive 7165 0 0x03a08 ∷ drive 7220 0 0x07a08 ∷ drive 7220 7 0x08000 ∷ drive 7220 0 0x03a00 ∷ drive 7220 7 0x00000 ∷ drive 7220 0 0x00a00 ∷ drive 7620 0 0x04a00 ∷ drive 7620 7 0x0010a ∷ drive 7675 7 0x0810a ∷ drive 7675 0 0x00a00 ∷ drive 7675 7 0x00000 ∷ drive 7675 0 0x04a00 ∷ drive 7675 7 0x00100 ∷ drive 7730 7 0x08100 ∷ drive 7730 0 0x00a00 ∷ drive 7730 7 0x00000 ∷ drive 7730 0 0x04a00 ∷ drive 7730 7 0x00100 ∷ drive 7785 7 0x08100 ∷ drive 7785 0 0x00a00 ∷ drive 7785 7 0x00000 ∷ drive 7785 0 0x04a00 ∷ drive 7785 7 0x00100 ∷ drive 7840 7 0x08100 ∷ drive 7840 0 0x00a00 ∷ drive 7840 7 0x00000 ∷ drive 7840 0 0x04a00 ∷ drive 7840 7 0x00001 ∷ drive 7895 7 0x08001 ∷ drive 7895 0 0x00a00 ∷ drive 7895 7 0x00000 ∷ drive 7895 0 0x04a00 ∷ drive 7895 7 0x00100 ∷ drive 7950 7 0x08100 ∷ drive 7950 0 0x00a00 ∷ drive 7950 7 0x00000 ∷ drive 7950 0 0x00200 ∷ drive 8350 0 0x04200 ∷ drive 8350 7 0x00001 ∷ drive 8404 7 0x08001 ∷ [])) 8404 ≡ Broken 98 22
unfolding union_below seen_with line_of ones form_out form_in
out_set_up_54 = refl

out_set_up_55 : judged_whole (reverse (drive 1200 7 0x00280 ∷ drive 3600 7 0x00680 ∷ drive 4800 7 0x10781 ∷ drive 4890 7 0x10581 ∷ drive 5290 0 0x00200 ∷ drive 5380 7 0x10000 ∷ drive 5380 0 0x02a00 ∷ drive 5780 0 0x06a00 ∷ drive 5780 7 0x101c0 ∷ drive 5835 7 0x181c0 ∷ drive 5835 0 0x02a00 ∷ drive 5835 7 0x10000 ∷ drive 5835 0 0x06a00 ∷ drive 5835 7 0x10001 ∷ drive 5890 7 0x18001 ∷ drive 5890 0 0x02a00 ∷ drive 5890 7 0x10000 ∷ drive 5890 0 0x06a00 ∷ drive 5890 7 0x10103 ∷ drive 5945 7 0x18103 ∷ drive 5945 0 0x02a00 ∷ drive 5945 7 0x10000 ∷ drive 5945 0 0x06a00 ∷ drive 5945 7 0x10001 ∷ drive 6000 7 0x18001 ∷ drive 6000 0 0x02a00 ∷ drive 6000 7 0x10000 ∷ drive 6000 0 0x06a00 ∷ drive 6000 7 0x10032 ∷ drive 6055 7 0x18032 ∷ drive 6055 0 0x02a00 ∷ drive 6055 7 0x10000 ∷ drive 6055 0 0x06a00 ∷ drive 6055 7 0x0010a ∷ drive 6145 7 0x0810a ∷ drive 6145 0 0x02a00 ∷ drive 6145 7 0x00000 ∷ drive 6145 0 0x03a00 ∷ drive 6945 0 0x03a01 ∷ drive 7000 0 0x07a01 ∷ drive 7000 7 0x08000 ∷ drive 7000 0 0x03a00 ∷ drive 7000 7 0x00000 ∷ drive 7000 0 0x03b03 ∷ drive 7055 0 0x07b03 ∷ drive 7055 7 0x08000 ∷ drive 7055 0 0x03a00 ∷ drive 7055 7 0x00000 ∷ drive 7055 0 0x03a01 ∷ drive 7110 0 0x07a01 ∷ drive 7110 7 0x08000 ∷ drive 7110 0 0x03a00 ∷ drive 7110 7 0x00000 ∷ drive 7110 0 0x03a32 ∷ drive 7165 0 0x07a32 ∷ drive 7165 7 0x08000 ∷ drive 7165 0 0x03a00 ∷ drive 7165 7 0x00000 ∷ drive 7165 0 0x03a08 ∷ drive 7220 0 0x07a08 ∷ drive 7220 7 0x08000 ∷ drive 7220 0 0x03a00 ∷ drive 7220 7 0x00000 ∷ drive 7220 0 0x00a00 ∷ drive 7620 0 0x04a00 ∷ drive 7620 7 0x0010a ∷ drive 7675 7 0x0810a ∷ drive 7675 0 0x00a00 ∷ drive 7675 7 0x00000 ∷ drive 7675 0 0x04a00 ∷ drive 7675 7 0x00100 ∷ drive 7730 7 0x08100 ∷ drive 7730 0 0x00a00 ∷ drive 7730 7 0x00000 ∷ drive 7730 0 0x04a00 ∷ drive 7730 7 0x00100 ∷ drive 7785 7 0x08100 ∷ drive 7785 0 0x00a00 ∷ drive 7785 7 0x00000 ∷ drive 7785 0 0x04a00 ∷ drive 7785 7 0x00100 ∷ drive 7840 7 0x08100 ∷ drive 7840 0 0x00a00 ∷ drive 7840 7 0x00000 ∷ drive 7840 0 0x04a00 ∷ drive 7840 7 0x00001 ∷ drive 7895 7 0x08001 ∷ drive 7895 0 0x00a00 ∷ drive 7895 7 0x00000 ∷ drive 7895 0 0x04a00 ∷ drive 7895 7 0x00100 ∷ drive 7950 7 0x08100 ∷ drive 7950 0 0x00a00 ∷ drive 7950 7 0x00000 ∷ drive 7950 0 0x00200 ∷ drive 8350 0 0x04200 ∷ drive 8350 7 0x00001 ∷ drive 8405 7 0x08001 ∷ [])) 8405 ≡ Lawful
unfolding union_below seen_with line_of ones form_out form_in
out_set_up_55 = refl

out_hold_99 : judged_whole (reverse (drive 1200 7 0x00280 ∷ drive 3600 7 0x00680 ∷ drive 4800 7 0x10781 ∷ drive 4890 7 0x10581 ∷ drive 5290 0 0x00200 ∷ drive 5380 7 0x10000 ∷ drive 5380 0 0x02a00 ∷ drive 5780 0 0x06a00 ∷ drive 5780 7 0x101c0 ∷ drive 5835 7 0x181c0 ∷ drive 5835 0 0x02a00 ∷ drive 5835 7 0x10000 ∷ drive 5835 0 0x06a00 ∷ drive 5835 7 0x10001 ∷ drive 5890 7 0x18001 ∷ drive 5890 0 0x02a00 ∷ drive 5890 7 0x10000 ∷ drive 5890 0 0x06a00 ∷ drive 5890 7 0x10103 ∷ drive 5945 7 0x18103 ∷ drive 5945 0 0x02a00 ∷ drive 5945 7 0x10000 ∷ drive 5945 0 0x06a00 ∷ drive 5945 7 0x10001 ∷ drive 6000 7 0x18001 ∷ drive 6000 0 0x02a00 ∷ drive 6000 7 0x10000 ∷ drive 6000 0 0x06a00 ∷ drive 6000 7 0x10032 ∷ drive 6055 7 0x18032 ∷ drive 6055 0 0x02a00 ∷ drive 6055 7 0x10000 ∷ drive 6055 0 0x06a00 ∷ drive 6055 7 0x0010a ∷ drive 6145 7 0x0810a ∷ drive 6145 0 0x02a00 ∷ drive 6145 7 0x00000 ∷ drive 6145 0 0x03a00 ∷ drive 6945 0 0x03a01 ∷ drive 7000 0 0x07a01 ∷ drive 7000 7 0x08000 ∷ drive 7000 0 0x03a00 ∷ drive 7000 7 0x00000 ∷ drive 7000 0 0x03b03 ∷ drive 7055 0 0x07b03 ∷ drive 7055 7 0x08000 ∷ drive 7055 0 0x03a00 ∷ drive 7055 7 0x00000 ∷ drive 7055 0 0x03a01 ∷ drive 7110 0 0x07a01 ∷ drive 7110 7 0x08000 ∷ drive 7110 0 0x03a00 ∷ drive 7110 7 0x00000 ∷ drive 7110 0 0x03a32 ∷ drive 7165 0 0x07a32 ∷ drive 7165 7 0x08000 ∷ drive 7165 0 0x03a00 ∷ drive 7165 7 0x00000 ∷ drive 7165 0 0x03a08 ∷ drive 7220 0 0x07a08 ∷ drive 7220 7 0x08000 ∷ drive 7220 0 0x03a00 ∷ drive 7220 7 0x00000 ∷ drive 7220 0 0x00a00 ∷ drive 7620 0 0x04a00 ∷ drive 7620 7 0x0010a ∷ drive 7675 7 0x0810a ∷ drive 7675 0 0x00a00 ∷ drive 7675 7 0x00000 ∷ drive 7675 0 0x04a00 ∷ drive 7675 7 0x00100 ∷ drive 7730 7 0x08100 ∷ drive 7730 0 0x00a00 ∷ drive 7730 7 0x00000 ∷ drive 7730 0 0x04a00 ∷ drive 7730 7 0x00100 ∷ drive 7785 7 0x08100 ∷ drive 7785 0 0x00a00 ∷ drive 7785 7 0x00000 ∷ drive 7785 0 0x04a00 ∷ drive 7785 7 0x00100 ∷ drive 7840 7 0x08100 ∷ drive 7840 0 0x00a00 ∷ drive 7840 7 0x00000 ∷ drive 7840 0 0x04a00 ∷ drive 7840 7 0x00001 ∷ drive 7895 7 0x08001 ∷ drive 7895 0 0x00a00 ∷ drive 7895 7 0x00000 ∷ drive 7895 0 0x04a00 ∷ drive 7895 7 0x00100 ∷ drive 7950 7 0x08100 ∷ drive 7950 0 0x00a00 ∷ drive 7950 7 0x00000 ∷ drive 7950 0 0x00200 ∷ drive 8350 0 0x04200 ∷ drive 8350 7 0x00001 ∷ drive 8405 7 0x08001 ∷ drive 8440 0 0x00200 ∷ drive 8495 7 0x00001 ∷ drive 8504 7 0x00000 ∷ [])) 8504 ≡ Broken 101 22
unfolding union_below seen_with line_of ones form_out form_in
out_hold_99 = refl

out_hold_100 : judged_whole (reverse (drive 1200 7 0x00280 ∷ drive 3600 7 0x00680 ∷ drive 4800 7 0x10781 ∷ drive 4890 7 0x10581 ∷ drive 5290 0 0x00200 ∷ drive 5380 7 0x10000 ∷ drive 5380 0 0x02a00 ∷ drive 5780 0 0x06a00 ∷ drive 5780 7 0x101c0 ∷ drive 5835 7 0x181c0 ∷ drive 5835 0 0x02a00 ∷ drive 5835 7 0x10000 ∷ drive 5835 0 0x06a00 ∷ drive 5835 7 0x10001 ∷ drive 5890 7 0x18001 ∷ drive 5890 0 0x02a00 ∷ drive 5890 7 0x10000 ∷ drive 5890 0 0x06a00 ∷ drive 5890 7 0x10103 ∷ drive 5945 7 0x18103 ∷ drive 5945 0 0x02a00 ∷ drive 5945 7 0x10000 ∷ drive 5945 0 0x06a00 ∷ drive 5945 7 0x10001 ∷ drive 6000 7 0x18001 ∷ drive 6000 0 0x02a00 ∷ drive 6000 7 0x10000 ∷ drive 6000 0 0x06a00 ∷ drive 6000 7 0x10032 ∷ drive 6055 7 0x18032 ∷ drive 6055 0 0x02a00 ∷ drive 6055 7 0x10000 ∷ drive 6055 0 0x06a00 ∷ drive 6055 7 0x0010a ∷ drive 6145 7 0x0810a ∷ drive 6145 0 0x02a00 ∷ drive 6145 7 0x00000 ∷ drive 6145 0 0x03a00 ∷ drive 6945 0 0x03a01 ∷ drive 7000 0 0x07a01 ∷ drive 7000 7 0x08000 ∷ drive 7000 0 0x03a00 ∷ drive 7000 7 0x00000 ∷ drive 7000 0 0x03b03 ∷ drive 7055 0 0x07b03 ∷ drive 7055 7 0x08000 ∷ drive 7055 0 0x03a00 ∷ drive 7055 7 0x00000 ∷ drive 7055 0 0x03a01 ∷ drive 7110 0 0x07a01 ∷ drive 7110 7 0x08000 ∷ drive 7110 0 0x03a00 ∷ drive 7110 7 0x00000 ∷ drive 7110 0 0x03a32 ∷ drive 7165 0 0x07a32 ∷ drive 7165 7 0x08000 ∷ drive 7165 0 0x03a00 ∷ drive 7165 7 0x00000 ∷ drive 7165 0 0x03a08 ∷ drive 7220 0 0x07a08 ∷ drive 7220 7 0x08000 ∷ drive 7220 0 0x03a00 ∷ drive 7220 7 0x00000 ∷ drive 7220 0 0x00a00 ∷ drive 7620 0 0x04a00 ∷ drive 7620 7 0x0010a ∷ drive 7675 7 0x0810a ∷ drive 7675 0 0x00a00 ∷ drive 7675 7 0x00000 ∷ drive 7675 0 0x04a00 ∷ drive 7675 7 0x00100 ∷ drive 7730 7 0x08100 ∷ drive 7730 0 0x00a00 ∷ drive 7730 7 0x00000 ∷ drive 7730 0 0x04a00 ∷ drive 7730 7 0x00100 ∷ drive 7785 7 0x08100 ∷ drive 7785 0 0x00a00 ∷ drive 7785 7 0x00000 ∷ drive 7785 0 0x04a00 ∷ drive 7785 7 0x00100 ∷ drive 7840 7 0x08100 ∷ drive 7840 0 0x00a00 ∷ drive 7840 7 0x00000 ∷ drive 7840 0 0x04a00 ∷ drive 7840 7 0x00001 ∷ drive 7895 7 0x08001 ∷ drive 7895 0 0x00a00 ∷ drive 7895 7 0x00000 ∷ drive 7895 0 0x04a00 ∷ drive 7895 7 0x00100 ∷ drive 7950 7 0x08100 ∷ drive 7950 0 0x00a00 ∷ drive 7950 7 0x00000 ∷ drive 7950 0 0x00200 ∷ drive 8350 0 0x04200 ∷ drive 8350 7 0x00001 ∷ drive 8405 7 0x08001 ∷ drive 8440 0 0x00200 ∷ drive 8495 7 0x00001 ∷ drive 8505 7 0x00000 ∷ [])) 8505 ≡ Lawful
unfolding union_below seen_with line_of ones form_out form_in
out_hold_100 = refl

out_acknowledges_ahead : judged_whole (reverse (drive 1200 7 0x00280 ∷ drive 3600 7 0x00680 ∷ drive 4800 7 0x10781 ∷ drive 4890 7 0x10581 ∷ drive 5290 0 0x00200 ∷ drive 5380 7 0x10000 ∷ drive 5380 0 0x02a00 ∷ drive 5780 0 0x06a00 ∷ drive 5780 7 0x101c0 ∷ drive 5835 7 0x181c0 ∷ drive 5835 0 0x02a00 ∷ drive 5835 7 0x10000 ∷ drive 5835 0 0x06a00 ∷ drive 5835 7 0x10001 ∷ drive 5890 7 0x18001 ∷ drive 5890 0 0x02a00 ∷ drive 5890 7 0x10000 ∷ drive 5890 0 0x06a00 ∷ drive 5890 7 0x10103 ∷ drive 5945 7 0x18103 ∷ drive 5945 0 0x02a00 ∷ drive 5945 7 0x10000 ∷ drive 5945 0 0x06a00 ∷ drive 5945 7 0x10001 ∷ drive 6000 7 0x18001 ∷ drive 6000 0 0x02a00 ∷ drive 6000 7 0x10000 ∷ drive 6000 0 0x06a00 ∷ drive 6000 7 0x10032 ∷ drive 6055 7 0x18032 ∷ drive 6055 0 0x02a00 ∷ drive 6055 7 0x10000 ∷ drive 6055 0 0x06a00 ∷ drive 6055 7 0x0010a ∷ drive 6145 7 0x0810a ∷ drive 6145 0 0x02a00 ∷ drive 6145 7 0x00000 ∷ drive 6145 0 0x03a00 ∷ drive 6945 0 0x03a01 ∷ drive 7000 0 0x07a01 ∷ drive 7000 7 0x08000 ∷ drive 7000 0 0x03a00 ∷ drive 7000 7 0x00000 ∷ drive 7000 0 0x03b03 ∷ drive 7055 0 0x07b03 ∷ drive 7055 7 0x08000 ∷ drive 7055 0 0x03a00 ∷ drive 7055 7 0x00000 ∷ drive 7055 0 0x03a01 ∷ drive 7110 0 0x07a01 ∷ drive 7110 7 0x08000 ∷ drive 7110 0 0x03a00 ∷ drive 7110 7 0x00000 ∷ drive 7110 0 0x03a32 ∷ drive 7165 0 0x07a32 ∷ drive 7165 7 0x08000 ∷ drive 7165 0 0x03a00 ∷ drive 7165 7 0x00000 ∷ drive 7165 0 0x03a08 ∷ drive 7220 0 0x07a08 ∷ drive 7220 7 0x08000 ∷ drive 7220 0 0x03a00 ∷ drive 7220 7 0x00000 ∷ drive 7220 0 0x00a00 ∷ drive 7620 0 0x04a00 ∷ drive 7620 7 0x0010a ∷ drive 7675 7 0x0810a ∷ drive 7675 0 0x00a00 ∷ drive 7675 7 0x00000 ∷ drive 7675 0 0x04a00 ∷ drive 7675 7 0x00100 ∷ drive 7730 7 0x08100 ∷ drive 7730 0 0x00a00 ∷ drive 7730 7 0x00000 ∷ drive 7730 0 0x04a00 ∷ drive 7730 7 0x00100 ∷ drive 7785 7 0x08100 ∷ drive 7785 0 0x00a00 ∷ drive 7785 7 0x00000 ∷ drive 7785 0 0x04a00 ∷ drive 7785 7 0x00100 ∷ drive 7840 7 0x08100 ∷ drive 7840 0 0x00a00 ∷ drive 7840 7 0x00000 ∷ drive 7840 0 0x04a00 ∷ drive 7840 7 0x00001 ∷ drive 7895 7 0x08001 ∷ drive 7895 0 0x00a00 ∷ drive 7895 7 0x00000 ∷ drive 7895 0 0x04a00 ∷ drive 7895 7 0x00100 ∷ drive 7950 7 0x08100 ∷ drive 7950 0 0x00a00 ∷ drive 7950 7 0x00000 ∷ drive 7950 0 0x00200 ∷ drive 8350 0 0x04200 ∷ drive 8350 7 0x00001 ∷ drive 8405 7 0x08001 ∷ drive 8440 0 0x00200 ∷ drive 8495 7 0x00001 ∷ drive 8650 7 0x08001 ∷ [])) 8650 ≡ Broken 101 21
unfolding union_below seen_with line_of ones form_out form_in
out_acknowledges_ahead = refl

out_leaves_unanswered : judged_whole (reverse (drive 1200 7 0x00280 ∷ drive 3600 7 0x00680 ∷ drive 4800 7 0x10781 ∷ drive 4890 7 0x10581 ∷ drive 5290 0 0x00200 ∷ drive 5380 7 0x10000 ∷ drive 5380 0 0x02a00 ∷ drive 5780 0 0x06a00 ∷ drive 5780 7 0x101c0 ∷ drive 5835 7 0x181c0 ∷ drive 5835 0 0x02a00 ∷ drive 5835 7 0x10000 ∷ drive 5835 0 0x06a00 ∷ drive 5835 7 0x10001 ∷ drive 5890 7 0x18001 ∷ drive 5890 0 0x02a00 ∷ drive 5890 7 0x10000 ∷ drive 5890 0 0x06a00 ∷ drive 5890 7 0x10103 ∷ drive 5945 7 0x18103 ∷ drive 5945 0 0x02a00 ∷ drive 5945 7 0x10000 ∷ drive 5945 0 0x06a00 ∷ drive 5945 7 0x10001 ∷ drive 6000 7 0x18001 ∷ drive 6000 0 0x02a00 ∷ drive 6000 7 0x10000 ∷ drive 6000 0 0x06a00 ∷ drive 6000 7 0x10032 ∷ drive 6055 7 0x18032 ∷ drive 6055 0 0x02a00 ∷ drive 6055 7 0x10000 ∷ drive 6055 0 0x06a00 ∷ drive 6055 7 0x0010a ∷ drive 6145 7 0x0810a ∷ drive 6145 0 0x02a00 ∷ drive 6145 7 0x00000 ∷ drive 6145 0 0x03a00 ∷ drive 6945 0 0x03a01 ∷ drive 7000 0 0x07a01 ∷ drive 7000 7 0x08000 ∷ drive 7000 0 0x03a00 ∷ drive 7000 7 0x00000 ∷ drive 7000 0 0x03b03 ∷ drive 7055 0 0x07b03 ∷ drive 7055 7 0x08000 ∷ drive 7055 0 0x03a00 ∷ drive 7055 7 0x00000 ∷ drive 7055 0 0x03a01 ∷ drive 7110 0 0x07a01 ∷ drive 7110 7 0x08000 ∷ drive 7110 0 0x03a00 ∷ drive 7110 7 0x00000 ∷ drive 7110 0 0x03a32 ∷ drive 7165 0 0x07a32 ∷ drive 7165 7 0x08000 ∷ drive 7165 0 0x03a00 ∷ drive 7165 7 0x00000 ∷ drive 7165 0 0x03a08 ∷ drive 7220 0 0x07a08 ∷ drive 7220 7 0x08000 ∷ drive 7220 0 0x03a00 ∷ drive 7220 7 0x00000 ∷ drive 7220 0 0x00a00 ∷ drive 7620 0 0x04a00 ∷ drive 7620 7 0x0010a ∷ drive 7675 7 0x0810a ∷ drive 7675 0 0x00a00 ∷ drive 7675 7 0x00000 ∷ drive 7675 0 0x04a00 ∷ drive 7675 7 0x00100 ∷ drive 7730 7 0x08100 ∷ drive 7730 0 0x00a00 ∷ drive 7730 7 0x00000 ∷ drive 7730 0 0x04a00 ∷ drive 7730 7 0x00100 ∷ drive 7785 7 0x08100 ∷ drive 7785 0 0x00a00 ∷ drive 7785 7 0x00000 ∷ drive 7785 0 0x04a00 ∷ drive 7785 7 0x00100 ∷ drive 7840 7 0x08100 ∷ drive 7840 0 0x00a00 ∷ drive 7840 7 0x00000 ∷ drive 7840 0 0x04a00 ∷ drive 7840 7 0x00001 ∷ drive 7895 7 0x08001 ∷ drive 7895 0 0x00a00 ∷ drive 7895 7 0x00000 ∷ drive 7895 0 0x04a00 ∷ drive 7895 7 0x00100 ∷ drive 7950 7 0x08100 ∷ drive 7950 0 0x00a00 ∷ drive 7950 7 0x00000 ∷ drive 7950 0 0x00200 ∷ drive 8350 0 0x04200 ∷ drive 8350 7 0x00001 ∷ drive 8440 0 0x00200 ∷ drive 8550 0 0x01a00 ∷ [])) 8550 ≡ Broken 99 23
unfolding union_below seen_with line_of ones form_out form_in
out_leaves_unanswered = refl

out_leaves_answered : judged_whole (reverse (drive 1200 7 0x00280 ∷ drive 3600 7 0x00680 ∷ drive 4800 7 0x10781 ∷ drive 4890 7 0x10581 ∷ drive 5290 0 0x00200 ∷ drive 5380 7 0x10000 ∷ drive 5380 0 0x02a00 ∷ drive 5780 0 0x06a00 ∷ drive 5780 7 0x101c0 ∷ drive 5835 7 0x181c0 ∷ drive 5835 0 0x02a00 ∷ drive 5835 7 0x10000 ∷ drive 5835 0 0x06a00 ∷ drive 5835 7 0x10001 ∷ drive 5890 7 0x18001 ∷ drive 5890 0 0x02a00 ∷ drive 5890 7 0x10000 ∷ drive 5890 0 0x06a00 ∷ drive 5890 7 0x10103 ∷ drive 5945 7 0x18103 ∷ drive 5945 0 0x02a00 ∷ drive 5945 7 0x10000 ∷ drive 5945 0 0x06a00 ∷ drive 5945 7 0x10001 ∷ drive 6000 7 0x18001 ∷ drive 6000 0 0x02a00 ∷ drive 6000 7 0x10000 ∷ drive 6000 0 0x06a00 ∷ drive 6000 7 0x10032 ∷ drive 6055 7 0x18032 ∷ drive 6055 0 0x02a00 ∷ drive 6055 7 0x10000 ∷ drive 6055 0 0x06a00 ∷ drive 6055 7 0x0010a ∷ drive 6145 7 0x0810a ∷ drive 6145 0 0x02a00 ∷ drive 6145 7 0x00000 ∷ drive 6145 0 0x03a00 ∷ drive 6945 0 0x03a01 ∷ drive 7000 0 0x07a01 ∷ drive 7000 7 0x08000 ∷ drive 7000 0 0x03a00 ∷ drive 7000 7 0x00000 ∷ drive 7000 0 0x03b03 ∷ drive 7055 0 0x07b03 ∷ drive 7055 7 0x08000 ∷ drive 7055 0 0x03a00 ∷ drive 7055 7 0x00000 ∷ drive 7055 0 0x03a01 ∷ drive 7110 0 0x07a01 ∷ drive 7110 7 0x08000 ∷ drive 7110 0 0x03a00 ∷ drive 7110 7 0x00000 ∷ drive 7110 0 0x03a32 ∷ drive 7165 0 0x07a32 ∷ drive 7165 7 0x08000 ∷ drive 7165 0 0x03a00 ∷ drive 7165 7 0x00000 ∷ drive 7165 0 0x03a08 ∷ drive 7220 0 0x07a08 ∷ drive 7220 7 0x08000 ∷ drive 7220 0 0x03a00 ∷ drive 7220 7 0x00000 ∷ drive 7220 0 0x00a00 ∷ drive 7620 0 0x04a00 ∷ drive 7620 7 0x0010a ∷ drive 7675 7 0x0810a ∷ drive 7675 0 0x00a00 ∷ drive 7675 7 0x00000 ∷ drive 7675 0 0x04a00 ∷ drive 7675 7 0x00100 ∷ drive 7730 7 0x08100 ∷ drive 7730 0 0x00a00 ∷ drive 7730 7 0x00000 ∷ drive 7730 0 0x04a00 ∷ drive 7730 7 0x00100 ∷ drive 7785 7 0x08100 ∷ drive 7785 0 0x00a00 ∷ drive 7785 7 0x00000 ∷ drive 7785 0 0x04a00 ∷ drive 7785 7 0x00100 ∷ drive 7840 7 0x08100 ∷ drive 7840 0 0x00a00 ∷ drive 7840 7 0x00000 ∷ drive 7840 0 0x04a00 ∷ drive 7840 7 0x00001 ∷ drive 7895 7 0x08001 ∷ drive 7895 0 0x00a00 ∷ drive 7895 7 0x00000 ∷ drive 7895 0 0x04a00 ∷ drive 7895 7 0x00100 ∷ drive 7950 7 0x08100 ∷ drive 7950 0 0x00a00 ∷ drive 7950 7 0x00000 ∷ drive 7950 0 0x00200 ∷ drive 8350 0 0x04200 ∷ drive 8350 7 0x00001 ∷ drive 8405 7 0x08001 ∷ drive 8440 0 0x00200 ∷ drive 8495 7 0x00001 ∷ drive 8505 7 0x00000 ∷ drive 8550 0 0x01a00 ∷ [])) 8550 ≡ Lawful
unfolding union_below seen_with line_of ones form_out form_in
out_leaves_answered = refl

negates_atn_with_ack : judged_whole (reverse (drive 1200 7 0x00280 ∷ drive 3600 7 0x00680 ∷ drive 4800 7 0x10781 ∷ drive 4890 7 0x10581 ∷ drive 5290 0 0x00200 ∷ drive 5380 7 0x10000 ∷ drive 5380 0 0x02a00 ∷ drive 5780 0 0x06a00 ∷ drive 5780 7 0x101c0 ∷ drive 5870 7 0x181c0 ∷ drive 5880 7 0x081c0 ∷ [])) 5880 ≡ Broken 11 24
unfolding union_below seen_with line_of ones form_out form_in
negates_atn_with_ack = refl

last_byte_early : judged_whole (reverse (drive 1200 7 0x00280 ∷ drive 3600 7 0x00680 ∷ drive 4800 7 0x10781 ∷ drive 4890 7 0x10581 ∷ drive 5290 0 0x00200 ∷ drive 5380 7 0x10000 ∷ drive 5380 0 0x02a00 ∷ drive 5780 0 0x06a00 ∷ drive 5780 7 0x001c0 ∷ drive 5869 7 0x081c0 ∷ [])) 5869 ≡ Broken 10 24
unfolding union_below seen_with line_of ones form_out form_in
last_byte_early = refl

last_byte_in_time : judged_whole (reverse (drive 1200 7 0x00280 ∷ drive 3600 7 0x00680 ∷ drive 4800 7 0x10781 ∷ drive 4890 7 0x10581 ∷ drive 5290 0 0x00200 ∷ drive 5380 7 0x10000 ∷ drive 5380 0 0x02a00 ∷ drive 5780 0 0x06a00 ∷ drive 5780 7 0x001c0 ∷ drive 5870 7 0x081c0 ∷ [])) 5870 ≡ Lawful
unfolding union_below seen_with line_of ones form_out form_in
last_byte_in_time = refl

negates_atn_in_the_row : judged_whole (reverse (drive 1200 7 0x00280 ∷ drive 3600 7 0x00680 ∷ drive 4800 7 0x10781 ∷ drive 4890 7 0x10581 ∷ drive 5290 0 0x00200 ∷ drive 5380 7 0x10000 ∷ drive 5380 0 0x02a00 ∷ drive 5780 0 0x06a00 ∷ drive 5780 7 0x101c0 ∷ drive 5870 7 0x081c0 ∷ [])) 5870 ≡ Broken 10 24
unfolding union_below seen_with line_of ones form_out form_in
negates_atn_in_the_row = refl

atn_heeded : judged_whole (reverse (drive 1200 7 0x00280 ∷ drive 3600 7 0x00680 ∷ drive 4800 7 0x10781 ∷ drive 4890 7 0x10581 ∷ drive 5290 0 0x00200 ∷ drive 5380 7 0x10000 ∷ drive 5380 0 0x02a00 ∷ drive 5780 0 0x06a00 ∷ drive 5780 7 0x001c0 ∷ drive 5870 7 0x081c0 ∷ drive 5870 0 0x02a00 ∷ drive 5870 7 0x00000 ∷ drive 5870 0 0x03a00 ∷ drive 6670 0 0x03a04 ∷ drive 6725 0 0x07a04 ∷ drive 6725 7 0x18000 ∷ drive 6725 0 0x03a00 ∷ drive 6815 7 0x10000 ∷ drive 6815 0 0x02a00 ∷ drive 7215 0 0x06a00 ∷ [])) 7215 ≡ Lawful
unfolding union_below seen_with line_of ones form_out form_in
atn_heeded = refl

atn_not_heeded : judged_whole (reverse (drive 1200 7 0x00280 ∷ drive 3600 7 0x00680 ∷ drive 4800 7 0x10781 ∷ drive 4890 7 0x10581 ∷ drive 5290 0 0x00200 ∷ drive 5380 7 0x10000 ∷ drive 5380 0 0x02a00 ∷ drive 5780 0 0x06a00 ∷ drive 5780 7 0x001c0 ∷ drive 5870 7 0x081c0 ∷ drive 5870 0 0x02a00 ∷ drive 5870 7 0x00000 ∷ drive 5870 0 0x03a00 ∷ drive 6670 0 0x03a04 ∷ drive 6725 0 0x07a04 ∷ drive 6725 7 0x18000 ∷ drive 6725 0 0x03a00 ∷ drive 6815 7 0x10000 ∷ drive 6815 0 0x00a00 ∷ drive 7215 0 0x04a00 ∷ [])) 7215 ≡ Broken 20 24
unfolding union_below seen_with line_of ones form_out form_in
atn_not_heeded = refl

atn_too_short : judged_whole (reverse (drive 1200 7 0x00280 ∷ drive 3600 7 0x00680 ∷ drive 4800 7 0x10781 ∷ drive 4890 7 0x10581 ∷ drive 5290 0 0x00200 ∷ drive 5380 7 0x10000 ∷ drive 5380 0 0x02a00 ∷ drive 5780 0 0x06a00 ∷ drive 5780 7 0x001c0 ∷ drive 5870 7 0x081c0 ∷ drive 5870 0 0x02a00 ∷ drive 5870 7 0x00000 ∷ drive 5870 0 0x03a00 ∷ drive 6670 0 0x03a04 ∷ drive 6725 0 0x07a04 ∷ drive 6725 7 0x18000 ∷ drive 6725 0 0x03a00 ∷ drive 6814 7 0x10000 ∷ drive 6814 0 0x00a00 ∷ drive 7214 0 0x04a00 ∷ [])) 7214 ≡ Lawful
unfolding union_below seen_with line_of ones form_out form_in
atn_too_short = refl

atn_taken_back : judged_whole (reverse (drive 1200 7 0x00280 ∷ drive 3600 7 0x00680 ∷ drive 4800 7 0x10781 ∷ drive 4890 7 0x10581 ∷ drive 5290 0 0x00200 ∷ drive 5380 7 0x10000 ∷ drive 5380 0 0x02a00 ∷ drive 5780 0 0x06a00 ∷ drive 5780 7 0x001c0 ∷ drive 5870 7 0x081c0 ∷ drive 5870 0 0x02a00 ∷ drive 5870 7 0x00000 ∷ drive 5870 0 0x03a00 ∷ drive 6670 0 0x03a04 ∷ drive 6725 0 0x07a04 ∷ drive 6725 7 0x18000 ∷ drive 6725 0 0x03a00 ∷ drive 6815 7 0x10000 ∷ drive 6815 0 0x00a00 ∷ drive 6900 7 0x00000 ∷ drive 7215 0 0x04a00 ∷ [])) 7215 ≡ Lawful
unfolding union_below seen_with line_of ones form_out form_in
atn_taken_back = refl

atn_in_command : judged_whole (reverse (drive 1200 7 0x00280 ∷ drive 3600 7 0x00680 ∷ drive 4800 7 0x10781 ∷ drive 4890 7 0x10581 ∷ drive 5290 0 0x00200 ∷ drive 5380 7 0x10000 ∷ drive 5380 0 0x02a00 ∷ drive 5780 0 0x06a00 ∷ drive 5780 7 0x001c0 ∷ drive 5870 7 0x081c0 ∷ drive 5870 0 0x02a00 ∷ drive 5870 7 0x00000 ∷ drive 5870 0 0x00a00 ∷ drive 6270 0 0x04a00 ∷ drive 6270 7 0x00008 ∷ drive 6325 7 0x08008 ∷ drive 6325 0 0x00a00 ∷ drive 6330 7 0x18008 ∷ drive 6420 7 0x10000 ∷ drive 6420 0 0x04a00 ∷ [])) 6420 ≡ Lawful
unfolding union_below seen_with line_of ones form_out form_in
atn_in_command = refl

atn_after_command : judged_whole (reverse (drive 1200 7 0x00280 ∷ drive 3600 7 0x00680 ∷ drive 4800 7 0x10781 ∷ drive 4890 7 0x10581 ∷ drive 5290 0 0x00200 ∷ drive 5380 7 0x10000 ∷ drive 5380 0 0x02a00 ∷ drive 5780 0 0x06a00 ∷ drive 5780 7 0x001c0 ∷ drive 5870 7 0x081c0 ∷ drive 5870 0 0x02a00 ∷ drive 5870 7 0x00000 ∷ drive 5870 0 0x00a00 ∷ drive 6270 0 0x04a00 ∷ drive 6270 7 0x00008 ∷ drive 6325 7 0x08008 ∷ drive 6325 0 0x00a00 ∷ drive 6325 7 0x00000 ∷ drive 6325 0 0x04a00 ∷ drive 6325 7 0x00100 ∷ drive 6380 7 0x08100 ∷ drive 6380 0 0x00a00 ∷ drive 6380 7 0x00000 ∷ drive 6380 0 0x04a00 ∷ drive 6380 7 0x00100 ∷ drive 6435 7 0x08100 ∷ drive 6435 0 0x00a00 ∷ drive 6435 7 0x00000 ∷ drive 6435 0 0x04a00 ∷ drive 6435 7 0x00100 ∷ drive 6490 7 0x08100 ∷ drive 6490 0 0x00a00 ∷ drive 6490 7 0x00000 ∷ drive 6490 0 0x04a00 ∷ drive 6490 7 0x00001 ∷ drive 6545 7 0x08001 ∷ drive 6545 0 0x00a00 ∷ drive 6545 7 0x00000 ∷ drive 6545 0 0x04a00 ∷ drive 6545 7 0x00100 ∷ drive 6600 7 0x08100 ∷ drive 6600 0 0x00a00 ∷ drive 6605 7 0x18100 ∷ drive 6695 7 0x10000 ∷ drive 6695 0 0x01200 ∷ drive 7495 0 0x01300 ∷ drive 7550 0 0x05300 ∷ [])) 7550 ≡ Broken 47 24
unfolding union_below seen_with line_of ones form_out form_in
atn_after_command = refl

atn_falls_with_ack_in_command : judged_whole (reverse (drive 1200 7 0x00280 ∷ drive 3600 7 0x00680 ∷ drive 4800 7 0x10781 ∷ drive 4890 7 0x10581 ∷ drive 5290 0 0x00200 ∷ drive 5380 7 0x10000 ∷ drive 5380 0 0x02a00 ∷ drive 5780 0 0x06a00 ∷ drive 5780 7 0x001c0 ∷ drive 5870 7 0x081c0 ∷ drive 5870 0 0x02a00 ∷ drive 5870 7 0x00000 ∷ drive 5870 0 0x00a00 ∷ drive 6270 0 0x04a00 ∷ drive 6270 7 0x10008 ∷ drive 6325 7 0x18008 ∷ drive 6330 7 0x08008 ∷ [])) 6330 ≡ Lawful
unfolding union_below seen_with line_of ones form_out form_in
atn_falls_with_ack_in_command = refl

ack_soon_after_atn_in_command : judged_whole (reverse (drive 1200 7 0x00280 ∷ drive 3600 7 0x00680 ∷ drive 4800 7 0x10781 ∷ drive 4890 7 0x10581 ∷ drive 5290 0 0x00200 ∷ drive 5380 7 0x10000 ∷ drive 5380 0 0x02a00 ∷ drive 5780 0 0x06a00 ∷ drive 5780 7 0x001c0 ∷ drive 5870 7 0x081c0 ∷ drive 5870 0 0x02a00 ∷ drive 5870 7 0x00000 ∷ drive 5870 0 0x00a00 ∷ drive 6270 0 0x04a00 ∷ drive 6270 7 0x10008 ∷ drive 6320 7 0x00008 ∷ drive 6330 7 0x08008 ∷ [])) 6330 ≡ Lawful
unfolding union_below seen_with line_of ones form_out form_in
ack_soon_after_atn_in_command = refl

ack_soon_after_atn_rises : judged_whole (reverse (drive 1200 7 0x00280 ∷ drive 3600 7 0x00680 ∷ drive 4800 7 0x10781 ∷ drive 4890 7 0x10581 ∷ drive 5290 0 0x00200 ∷ drive 5380 7 0x00000 ∷ drive 5380 0 0x02a00 ∷ drive 5780 0 0x06a00 ∷ drive 5780 7 0x001c0 ∷ drive 5835 7 0x101c0 ∷ drive 5840 7 0x181c0 ∷ [])) 5840 ≡ Lawful
unfolding union_below seen_with line_of ones form_out form_in
ack_soon_after_atn_rises = refl

attention_outside_a_connection : judged_whole (reverse (drive 1200 7 0x00280 ∷ drive 1300 3 0x1a800 ∷ drive 1400 3 0x0a800 ∷ [])) 1400 ≡ Lawful
unfolding union_below seen_with line_of ones form_out form_in
attention_outside_a_connection = refl

opens_with_identify : judged_whole (reverse (drive 1200 7 0x00280 ∷ drive 3600 7 0x00680 ∷ drive 4800 7 0x10781 ∷ drive 4890 7 0x10581 ∷ drive 5290 0 0x00200 ∷ drive 5380 7 0x10000 ∷ drive 5380 0 0x02a00 ∷ drive 5780 0 0x06a00 ∷ drive 5780 7 0x001c0 ∷ drive 5870 7 0x081c0 ∷ drive 5870 0 0x02a00 ∷ drive 5870 7 0x00000 ∷ [])) 5870 ≡ Lawful
unfolding union_below seen_with line_of ones form_out form_in
opens_with_identify = refl

opens_with_abort : judged_whole (reverse (drive 1200 7 0x00280 ∷ drive 3600 7 0x00680 ∷ drive 4800 7 0x10781 ∷ drive 4890 7 0x10581 ∷ drive 5290 0 0x00200 ∷ drive 5380 7 0x10000 ∷ drive 5380 0 0x02a00 ∷ drive 5780 0 0x06a00 ∷ drive 5780 7 0x00106 ∷ drive 5870 7 0x08106 ∷ drive 5870 0 0x02a00 ∷ drive 5870 7 0x00000 ∷ [])) 5870 ≡ Lawful
unfolding union_below seen_with line_of ones form_out form_in
opens_with_abort = refl

opens_with_reset : judged_whole (reverse (drive 1200 7 0x00280 ∷ drive 3600 7 0x00680 ∷ drive 4800 7 0x10781 ∷ drive 4890 7 0x10581 ∷ drive 5290 0 0x00200 ∷ drive 5380 7 0x10000 ∷ drive 5380 0 0x02a00 ∷ drive 5780 0 0x06a00 ∷ drive 5780 7 0x0010c ∷ drive 5870 7 0x0810c ∷ drive 5870 0 0x02a00 ∷ drive 5870 7 0x00000 ∷ [])) 5870 ≡ Lawful
unfolding union_below seen_with line_of ones form_out form_in
opens_with_reset = refl

opens_with_no_operation : judged_whole (reverse (drive 1200 7 0x00280 ∷ drive 3600 7 0x00680 ∷ drive 4800 7 0x10781 ∷ drive 4890 7 0x10581 ∷ drive 5290 0 0x00200 ∷ drive 5380 7 0x10000 ∷ drive 5380 0 0x02a00 ∷ drive 5780 0 0x06a00 ∷ drive 5780 7 0x00008 ∷ drive 5870 7 0x08008 ∷ drive 5870 0 0x02a00 ∷ drive 5870 7 0x00000 ∷ [])) 5870 ≡ Broken 10 25
unfolding union_below seen_with line_of ones form_out form_in
opens_with_no_operation = refl

opens_with_half : judged_whole (reverse (drive 1200 7 0x00280 ∷ drive 3600 7 0x00680 ∷ drive 4800 7 0x10781 ∷ drive 4890 7 0x10581 ∷ drive 5290 0 0x00200 ∷ drive 5380 7 0x10000 ∷ drive 5380 0 0x02a00 ∷ drive 5780 0 0x06a00 ∷ drive 5780 7 0x10020 ∷ drive 5835 7 0x18020 ∷ drive 5835 0 0x02a00 ∷ drive 5835 7 0x10000 ∷ drive 5835 0 0x06a00 ∷ drive 5835 7 0x00105 ∷ drive 5925 7 0x08105 ∷ drive 5925 0 0x02a00 ∷ drive 5925 7 0x00000 ∷ [])) 5925 ≡ Broken 10 25
unfolding union_below seen_with line_of ones form_out form_in
opens_with_half = refl

no_message : judged_whole (reverse (drive 1200 7 0x00280 ∷ drive 3600 7 0x00680 ∷ drive 4800 7 0x10781 ∷ drive 4890 7 0x10581 ∷ drive 5290 0 0x00200 ∷ drive 5380 7 0x10000 ∷ drive 5380 0 0x02a00 ∷ drive 5780 0 0x06a00 ∷ drive 5780 7 0x101c0 ∷ drive 5835 7 0x181c0 ∷ drive 5835 0 0x02a00 ∷ drive 5835 7 0x10000 ∷ drive 5835 0 0x06a00 ∷ drive 5835 7 0x0010a ∷ drive 5925 7 0x0810a ∷ drive 5925 0 0x02a00 ∷ drive 5925 7 0x00000 ∷ [])) 5925 ≡ Broken 15 25
unfolding union_below seen_with line_of ones form_out form_in
no_message = refl

no_message_to_the_target : judged_whole (reverse (drive 1200 7 0x00280 ∷ drive 3600 7 0x00680 ∷ drive 4800 7 0x10781 ∷ drive 4890 7 0x10581 ∷ drive 5290 0 0x00200 ∷ drive 5380 7 0x10000 ∷ drive 5380 0 0x02a00 ∷ drive 5780 0 0x06a00 ∷ drive 5780 7 0x101c0 ∷ drive 5835 7 0x181c0 ∷ drive 5835 0 0x02a00 ∷ drive 5835 7 0x10000 ∷ drive 5835 0 0x06a00 ∷ drive 5835 7 0x00100 ∷ drive 5925 7 0x08100 ∷ drive 5925 0 0x02a00 ∷ drive 5925 7 0x00000 ∷ [])) 5925 ≡ Broken 15 25
unfolding union_below seen_with line_of ones form_out form_in
no_message_to_the_target = refl

vendor_message : judged_whole (reverse (drive 1200 7 0x00280 ∷ drive 3600 7 0x00680 ∷ drive 4800 7 0x10781 ∷ drive 4890 7 0x10581 ∷ drive 5290 0 0x00200 ∷ drive 5380 7 0x10000 ∷ drive 5380 0 0x02a00 ∷ drive 5780 0 0x06a00 ∷ drive 5780 7 0x101c0 ∷ drive 5835 7 0x181c0 ∷ drive 5835 0 0x02a00 ∷ drive 5835 7 0x10000 ∷ drive 5835 0 0x06a00 ∷ drive 5835 7 0x001a0 ∷ drive 5925 7 0x081a0 ∷ drive 5925 0 0x02a00 ∷ drive 5925 7 0x00000 ∷ [])) 5925 ≡ Broken 15 25
unfolding union_below seen_with line_of ones form_out form_in
vendor_message = refl

left_half_sent : judged_whole (reverse (drive 1200 7 0x00280 ∷ drive 3600 7 0x00680 ∷ drive 4800 7 0x10781 ∷ drive 4890 7 0x10581 ∷ drive 5290 0 0x00200 ∷ drive 5380 7 0x10000 ∷ drive 5380 0 0x02a00 ∷ drive 5780 0 0x06a00 ∷ drive 5780 7 0x101c0 ∷ drive 5835 7 0x181c0 ∷ drive 5835 0 0x02a00 ∷ drive 5835 7 0x10000 ∷ drive 5835 0 0x06a00 ∷ drive 5835 7 0x00020 ∷ drive 5925 7 0x08020 ∷ drive 5925 0 0x02a00 ∷ drive 5925 7 0x00000 ∷ drive 5925 0 0x00a00 ∷ [])) 5925 ≡ Broken 18 25
unfolding union_below seen_with line_of ones form_out form_in
left_half_sent = refl

freed_half_sent : judged_whole (reverse (drive 1200 7 0x00280 ∷ drive 3600 7 0x00680 ∷ drive 4800 7 0x10781 ∷ drive 4890 7 0x10581 ∷ drive 5290 0 0x00200 ∷ drive 5380 7 0x10000 ∷ drive 5380 0 0x02a00 ∷ drive 5780 0 0x06a00 ∷ drive 5780 7 0x101c0 ∷ drive 5835 7 0x181c0 ∷ drive 5835 0 0x02a00 ∷ drive 5835 7 0x10000 ∷ drive 5835 0 0x06a00 ∷ drive 5835 7 0x00020 ∷ drive 5925 7 0x08020 ∷ drive 5925 0 0x02a00 ∷ drive 5925 7 0x00000 ∷ drive 5925 0 0x00000 ∷ [])) 5925 ≡ Lawful
unfolding union_below seen_with line_of ones form_out form_in
freed_half_sent = refl

left_whole : judged_whole (reverse (drive 1200 7 0x00280 ∷ drive 3600 7 0x00680 ∷ drive 4800 7 0x10781 ∷ drive 4890 7 0x10581 ∷ drive 5290 0 0x00200 ∷ drive 5380 7 0x10000 ∷ drive 5380 0 0x02a00 ∷ drive 5780 0 0x06a00 ∷ drive 5780 7 0x101c0 ∷ drive 5835 7 0x181c0 ∷ drive 5835 0 0x02a00 ∷ drive 5835 7 0x10000 ∷ drive 5835 0 0x06a00 ∷ drive 5835 7 0x10020 ∷ drive 5890 7 0x18020 ∷ drive 5890 0 0x02a00 ∷ drive 5890 7 0x10000 ∷ drive 5890 0 0x06a00 ∷ drive 5890 7 0x00007 ∷ drive 5980 7 0x08007 ∷ drive 5980 0 0x02a00 ∷ drive 5980 7 0x00000 ∷ drive 5980 0 0x00a00 ∷ [])) 5980 ≡ Lawful
unfolding union_below seen_with line_of ones form_out form_in
left_whole = refl

in_left_half_sent : judged_whole (reverse (drive 1200 7 0x00280 ∷ drive 3600 7 0x00680 ∷ drive 4800 7 0x10781 ∷ drive 4890 7 0x10581 ∷ drive 5290 0 0x00200 ∷ drive 5380 7 0x10000 ∷ drive 5380 0 0x02a00 ∷ drive 5780 0 0x06a00 ∷ drive 5780 7 0x001c0 ∷ drive 5870 7 0x081c0 ∷ drive 5870 0 0x02a00 ∷ drive 5870 7 0x00000 ∷ drive 5870 0 0x03a00 ∷ drive 6670 0 0x03a01 ∷ drive 6725 0 0x07a01 ∷ drive 6725 7 0x08000 ∷ drive 6725 0 0x03a00 ∷ drive 6725 7 0x00000 ∷ drive 6725 0 0x03b03 ∷ drive 6780 0 0x07b03 ∷ drive 6780 7 0x08000 ∷ drive 6780 0 0x03a00 ∷ drive 6780 7 0x00000 ∷ drive 6780 0 0x00a00 ∷ [])) 6780 ≡ Broken 24 25
unfolding union_below seen_with line_of ones form_out form_in
in_left_half_sent = refl

in_messages : judged_whole (reverse (drive 1200 7 0x00280 ∷ drive 3600 7 0x00680 ∷ drive 4800 7 0x10781 ∷ drive 4890 7 0x10581 ∷ drive 5290 0 0x00200 ∷ drive 5380 7 0x10000 ∷ drive 5380 0 0x02a00 ∷ drive 5780 0 0x06a00 ∷ drive 5780 7 0x001c0 ∷ drive 5870 7 0x081c0 ∷ drive 5870 0 0x02a00 ∷ drive 5870 7 0x00000 ∷ drive 5870 0 0x03a00 ∷ drive 6670 0 0x03a20 ∷ drive 6725 0 0x07a20 ∷ drive 6725 7 0x08000 ∷ drive 6725 0 0x03a00 ∷ drive 6725 7 0x00000 ∷ drive 6725 0 0x03b09 ∷ drive 6780 0 0x07b09 ∷ drive 6780 7 0x08000 ∷ drive 6780 0 0x03a00 ∷ drive 6780 7 0x00000 ∷ drive 6780 0 0x03b00 ∷ drive 6835 0 0x07b00 ∷ drive 6835 7 0x08000 ∷ drive 6835 0 0x03a00 ∷ drive 6835 7 0x00000 ∷ drive 6835 0 0x03a04 ∷ drive 6890 0 0x07a04 ∷ drive 6890 7 0x08000 ∷ drive 6890 0 0x03a00 ∷ drive 6890 7 0x00000 ∷ drive 6890 0 0x03a07 ∷ drive 6945 0 0x07a07 ∷ drive 6945 7 0x08000 ∷ drive 6945 0 0x03a00 ∷ drive 6945 7 0x00000 ∷ drive 6945 0 0x03a02 ∷ drive 7000 0 0x07a02 ∷ drive 7000 7 0x08000 ∷ drive 7000 0 0x03a00 ∷ drive 7000 7 0x00000 ∷ [])) 7000 ≡ Lawful
unfolding union_below seen_with line_of ones form_out form_in
in_messages = refl

in_no_message : judged_whole (reverse (drive 1200 7 0x00280 ∷ drive 3600 7 0x00680 ∷ drive 4800 7 0x10781 ∷ drive 4890 7 0x10581 ∷ drive 5290 0 0x00200 ∷ drive 5380 7 0x10000 ∷ drive 5380 0 0x02a00 ∷ drive 5780 0 0x06a00 ∷ drive 5780 7 0x001c0 ∷ drive 5870 7 0x081c0 ∷ drive 5870 0 0x02a00 ∷ drive 5870 7 0x00000 ∷ drive 5870 0 0x03a00 ∷ drive 6670 0 0x03b05 ∷ drive 6725 0 0x07b05 ∷ drive 6725 7 0x08000 ∷ drive 6725 0 0x03a00 ∷ drive 6725 7 0x00000 ∷ [])) 6725 ≡ Broken 15 25
unfolding union_below seen_with line_of ones form_out form_in
in_no_message = refl

broken_off_with_atn : judged_whole (reverse (drive 1200 7 0x00280 ∷ drive 3600 7 0x00680 ∷ drive 4800 7 0x10781 ∷ drive 4890 7 0x10581 ∷ drive 5290 0 0x00200 ∷ drive 5380 7 0x10000 ∷ drive 5380 0 0x02a00 ∷ drive 5780 0 0x06a00 ∷ drive 5780 7 0x001c0 ∷ drive 5870 7 0x081c0 ∷ drive 5870 0 0x02a00 ∷ drive 5870 7 0x00000 ∷ drive 5870 0 0x03a00 ∷ drive 6670 0 0x03a01 ∷ drive 6725 0 0x07a01 ∷ drive 6725 7 0x18000 ∷ drive 6725 0 0x03a00 ∷ drive 6815 7 0x10000 ∷ drive 6815 0 0x02a00 ∷ [])) 6815 ≡ Lawful
unfolding union_below seen_with line_of ones form_out form_in
broken_off_with_atn = refl

command_first : judged_whole (reverse (drive 1200 7 0x00280 ∷ drive 3600 7 0x00680 ∷ drive 4800 7 0x10781 ∷ drive 4890 7 0x10581 ∷ drive 5290 0 0x00200 ∷ drive 5380 7 0x10000 ∷ drive 5380 0 0x00a00 ∷ drive 5780 0 0x04a00 ∷ drive 5780 7 0x10008 ∷ drive 5870 7 0x18008 ∷ [])) 5870 ≡ Broken 10 25
unfolding union_below seen_with line_of ones form_out form_in
command_first = refl

reselection_opens_with_identify : judged_whole (reverse (drive 1200 0 0x00201 ∷ drive 3600 0 0x00601 ∷ drive 4800 0 0x01781 ∷ drive 4890 0 0x01581 ∷ drive 5290 7 0x00200 ∷ drive 5290 0 0x01781 ∷ drive 5380 0 0x01200 ∷ drive 5380 7 0x00000 ∷ drive 5400 0 0x03a80 ∷ drive 5800 0 0x07a80 ∷ [])) 5800 ≡ Lawful
unfolding union_below seen_with line_of ones form_out form_in
reselection_opens_with_identify = refl

reselection_opens_with_disconnect : judged_whole (reverse (drive 1200 0 0x00201 ∷ drive 3600 0 0x00601 ∷ drive 4800 0 0x01781 ∷ drive 4890 0 0x01581 ∷ drive 5290 7 0x00200 ∷ drive 5290 0 0x01781 ∷ drive 5380 0 0x01200 ∷ drive 5380 7 0x00000 ∷ drive 5400 0 0x03a04 ∷ drive 5800 0 0x07a04 ∷ [])) 5800 ≡ Broken 10 25
unfolding union_below seen_with line_of ones form_out form_in
reselection_opens_with_disconnect = refl

reselection_opens_in_data : judged_whole (reverse (drive 1200 0 0x00201 ∷ drive 3600 0 0x00601 ∷ drive 4800 0 0x01781 ∷ drive 4890 0 0x01581 ∷ drive 5290 7 0x00200 ∷ drive 5290 0 0x01781 ∷ drive 5380 0 0x01200 ∷ drive 5380 7 0x00000 ∷ drive 5400 0 0x01280 ∷ drive 5800 0 0x05280 ∷ [])) 5800 ≡ Broken 10 25
unfolding union_below seen_with line_of ones form_out form_in
reselection_opens_in_data = refl

out_left_half_sent_with_atn : judged_whole (reverse (drive 1200 7 0x00280 ∷ drive 3600 7 0x00680 ∷ drive 4800 7 0x10781 ∷ drive 4890 7 0x10581 ∷ drive 5290 0 0x00200 ∷ drive 5380 7 0x10000 ∷ drive 5380 0 0x02a00 ∷ drive 5780 0 0x06a00 ∷ drive 5780 7 0x101c0 ∷ drive 5835 7 0x181c0 ∷ drive 5835 0 0x02a00 ∷ drive 5835 7 0x10000 ∷ drive 5835 0 0x06a00 ∷ drive 5835 7 0x10020 ∷ drive 5890 7 0x18020 ∷ drive 5890 0 0x02a00 ∷ drive 5890 7 0x10000 ∷ drive 5900 0 0x00a00 ∷ [])) 5900 ≡ Broken 18 25
unfolding union_below seen_with line_of ones form_out form_in
out_left_half_sent_with_atn = refl

opens_with_save_in_a_reselection : judged_whole (reverse (drive 1200 0 0x00201 ∷ drive 3600 0 0x00601 ∷ drive 4800 0 0x01781 ∷ drive 4890 0 0x01581 ∷ drive 5290 7 0x00200 ∷ drive 5290 0 0x01781 ∷ drive 5380 0 0x01200 ∷ drive 5380 7 0x00000 ∷ drive 5400 0 0x03a02 ∷ drive 5800 0 0x07a02 ∷ [])) 5800 ≡ Broken 10 25
unfolding union_below seen_with line_of ones form_out form_in
opens_with_save_in_a_reselection = refl

opens_in_with_identify_in_a_selection : judged_whole (reverse (drive 1200 7 0x00280 ∷ drive 3600 7 0x00680 ∷ drive 4800 7 0x10781 ∷ drive 4890 7 0x10581 ∷ drive 5290 0 0x00200 ∷ drive 5380 7 0x10000 ∷ drive 5380 0 0x03a00 ∷ drive 6200 0 0x03a80 ∷ drive 6300 0 0x07a80 ∷ [])) 6300 ≡ Broken 9 25
unfolding union_below seen_with line_of ones form_out form_in
opens_in_with_identify_in_a_selection = refl

opens_out_with_identify_in_a_reselection : judged_whole (reverse (drive 1200 0 0x00201 ∷ drive 3600 0 0x00601 ∷ drive 4800 0 0x01781 ∷ drive 4890 0 0x01581 ∷ drive 5290 7 0x00200 ∷ drive 5290 0 0x01781 ∷ drive 5380 0 0x01200 ∷ drive 5380 7 0x00000 ∷ drive 5400 0 0x02a00 ∷ drive 5800 0 0x06a00 ∷ drive 5810 7 0x001c0 ∷ drive 5900 7 0x081c0 ∷ [])) 5900 ≡ Broken 12 25
unfolding union_below seen_with line_of ones form_out form_in
opens_out_with_identify_in_a_reselection = refl

seventh_byte : judged_whole (reverse (drive 1200 7 0x00280 ∷ drive 3600 7 0x00680 ∷ drive 4800 7 0x10781 ∷ drive 4890 7 0x10581 ∷ drive 5290 0 0x00200 ∷ drive 5380 7 0x10000 ∷ drive 5380 0 0x02a00 ∷ drive 5780 0 0x06a00 ∷ drive 5780 7 0x001c0 ∷ drive 5870 7 0x081c0 ∷ drive 5870 0 0x02a00 ∷ drive 5870 7 0x00000 ∷ drive 5870 0 0x00a00 ∷ drive 6270 0 0x04a00 ∷ drive 6270 7 0x00008 ∷ drive 6325 7 0x08008 ∷ drive 6325 0 0x00a00 ∷ drive 6325 7 0x00000 ∷ drive 6325 0 0x04a00 ∷ drive 6325 7 0x00100 ∷ drive 6380 7 0x08100 ∷ drive 6380 0 0x00a00 ∷ drive 6380 7 0x00000 ∷ drive 6380 0 0x04a00 ∷ drive 6380 7 0x00100 ∷ drive 6435 7 0x08100 ∷ drive 6435 0 0x00a00 ∷ drive 6435 7 0x00000 ∷ drive 6435 0 0x04a00 ∷ drive 6435 7 0x00100 ∷ drive 6490 7 0x08100 ∷ drive 6490 0 0x00a00 ∷ drive 6490 7 0x00000 ∷ drive 6490 0 0x04a00 ∷ drive 6490 7 0x00001 ∷ drive 6545 7 0x08001 ∷ drive 6545 0 0x00a00 ∷ drive 6545 7 0x00000 ∷ drive 6545 0 0x04a00 ∷ drive 6545 7 0x00100 ∷ drive 6600 7 0x08100 ∷ drive 6600 0 0x00a00 ∷ drive 6600 7 0x00000 ∷ drive 6600 0 0x04a00 ∷ drive 6600 7 0x00100 ∷ drive 6655 7 0x08100 ∷ drive 6655 0 0x00a00 ∷ drive 6655 7 0x00000 ∷ [])) 6655 ≡ Broken 46 26
unfolding union_below seen_with line_of ones form_out form_in
seventh_byte = refl

six_bytes : judged_whole (reverse (drive 1200 7 0x00280 ∷ drive 3600 7 0x00680 ∷ drive 4800 7 0x10781 ∷ drive 4890 7 0x10581 ∷ drive 5290 0 0x00200 ∷ drive 5380 7 0x10000 ∷ drive 5380 0 0x02a00 ∷ drive 5780 0 0x06a00 ∷ drive 5780 7 0x001c0 ∷ drive 5870 7 0x081c0 ∷ drive 5870 0 0x02a00 ∷ drive 5870 7 0x00000 ∷ drive 5870 0 0x00a00 ∷ drive 6270 0 0x04a00 ∷ drive 6270 7 0x00008 ∷ drive 6325 7 0x08008 ∷ drive 6325 0 0x00a00 ∷ drive 6325 7 0x00000 ∷ drive 6325 0 0x04a00 ∷ drive 6325 7 0x00100 ∷ drive 6380 7 0x08100 ∷ drive 6380 0 0x00a00 ∷ drive 6380 7 0x00000 ∷ drive 6380 0 0x04a00 ∷ drive 6380 7 0x00100 ∷ drive 6435 7 0x08100 ∷ drive 6435 0 0x00a00 ∷ drive 6435 7 0x00000 ∷ drive 6435 0 0x04a00 ∷ drive 6435 7 0x00100 ∷ drive 6490 7 0x08100 ∷ drive 6490 0 0x00a00 ∷ drive 6490 7 0x00000 ∷ drive 6490 0 0x04a00 ∷ drive 6490 7 0x00001 ∷ drive 6545 7 0x08001 ∷ drive 6545 0 0x00a00 ∷ drive 6545 7 0x00000 ∷ drive 6545 0 0x04a00 ∷ drive 6545 7 0x00100 ∷ drive 6600 7 0x08100 ∷ drive 6600 0 0x00a00 ∷ drive 6600 7 0x00000 ∷ [])) 6600 ≡ Lawful
unfolding union_below seen_with line_of ones form_out form_in
six_bytes = refl

ten_bytes : judged_whole (reverse (drive 1200 7 0x00280 ∷ drive 3600 7 0x00680 ∷ drive 4800 7 0x10781 ∷ drive 4890 7 0x10581 ∷ drive 5290 0 0x00200 ∷ drive 5380 7 0x10000 ∷ drive 5380 0 0x02a00 ∷ drive 5780 0 0x06a00 ∷ drive 5780 7 0x001c0 ∷ drive 5870 7 0x081c0 ∷ drive 5870 0 0x02a00 ∷ drive 5870 7 0x00000 ∷ drive 5870 0 0x00a00 ∷ drive 6270 0 0x04a00 ∷ drive 6270 7 0x00128 ∷ drive 6325 7 0x08128 ∷ drive 6325 0 0x00a00 ∷ drive 6325 7 0x00000 ∷ drive 6325 0 0x04a00 ∷ drive 6325 7 0x00100 ∷ drive 6380 7 0x08100 ∷ drive 6380 0 0x00a00 ∷ drive 6380 7 0x00000 ∷ drive 6380 0 0x04a00 ∷ drive 6380 7 0x00100 ∷ drive 6435 7 0x08100 ∷ drive 6435 0 0x00a00 ∷ drive 6435 7 0x00000 ∷ drive 6435 0 0x04a00 ∷ drive 6435 7 0x00100 ∷ drive 6490 7 0x08100 ∷ drive 6490 0 0x00a00 ∷ drive 6490 7 0x00000 ∷ drive 6490 0 0x04a00 ∷ drive 6490 7 0x00100 ∷ drive 6545 7 0x08100 ∷ drive 6545 0 0x00a00 ∷ drive 6545 7 0x00000 ∷ drive 6545 0 0x04a00 ∷ drive 6545 7 0x00100 ∷ drive 6600 7 0x08100 ∷ drive 6600 0 0x00a00 ∷ drive 6600 7 0x00000 ∷ drive 6600 0 0x04a00 ∷ drive 6600 7 0x00100 ∷ drive 6655 7 0x08100 ∷ drive 6655 0 0x00a00 ∷ drive 6655 7 0x00000 ∷ drive 6655 0 0x04a00 ∷ drive 6655 7 0x00100 ∷ drive 6710 7 0x08100 ∷ drive 6710 0 0x00a00 ∷ drive 6710 7 0x00000 ∷ drive 6710 0 0x04a00 ∷ drive 6710 7 0x00100 ∷ drive 6765 7 0x08100 ∷ drive 6765 0 0x00a00 ∷ drive 6765 7 0x00000 ∷ drive 6765 0 0x04a00 ∷ drive 6765 7 0x00100 ∷ drive 6820 7 0x08100 ∷ drive 6820 0 0x00a00 ∷ drive 6820 7 0x00000 ∷ [])) 6820 ≡ Lawful
unfolding union_below seen_with line_of ones form_out form_in
ten_bytes = refl

eleventh_byte : judged_whole (reverse (drive 1200 7 0x00280 ∷ drive 3600 7 0x00680 ∷ drive 4800 7 0x10781 ∷ drive 4890 7 0x10581 ∷ drive 5290 0 0x00200 ∷ drive 5380 7 0x10000 ∷ drive 5380 0 0x02a00 ∷ drive 5780 0 0x06a00 ∷ drive 5780 7 0x001c0 ∷ drive 5870 7 0x081c0 ∷ drive 5870 0 0x02a00 ∷ drive 5870 7 0x00000 ∷ drive 5870 0 0x00a00 ∷ drive 6270 0 0x04a00 ∷ drive 6270 7 0x00128 ∷ drive 6325 7 0x08128 ∷ drive 6325 0 0x00a00 ∷ drive 6325 7 0x00000 ∷ drive 6325 0 0x04a00 ∷ drive 6325 7 0x00100 ∷ drive 6380 7 0x08100 ∷ drive 6380 0 0x00a00 ∷ drive 6380 7 0x00000 ∷ drive 6380 0 0x04a00 ∷ drive 6380 7 0x00100 ∷ drive 6435 7 0x08100 ∷ drive 6435 0 0x00a00 ∷ drive 6435 7 0x00000 ∷ drive 6435 0 0x04a00 ∷ drive 6435 7 0x00100 ∷ drive 6490 7 0x08100 ∷ drive 6490 0 0x00a00 ∷ drive 6490 7 0x00000 ∷ drive 6490 0 0x04a00 ∷ drive 6490 7 0x00100 ∷ drive 6545 7 0x08100 ∷ drive 6545 0 0x00a00 ∷ drive 6545 7 0x00000 ∷ drive 6545 0 0x04a00 ∷ drive 6545 7 0x00100 ∷ drive 6600 7 0x08100 ∷ drive 6600 0 0x00a00 ∷ drive 6600 7 0x00000 ∷ drive 6600 0 0x04a00 ∷ drive 6600 7 0x00100 ∷ drive 6655 7 0x08100 ∷ drive 6655 0 0x00a00 ∷ drive 6655 7 0x00000 ∷ drive 6655 0 0x04a00 ∷ drive 6655 7 0x00100 ∷ drive 6710 7 0x08100 ∷ drive 6710 0 0x00a00 ∷ drive 6710 7 0x00000 ∷ drive 6710 0 0x04a00 ∷ drive 6710 7 0x00100 ∷ drive 6765 7 0x08100 ∷ drive 6765 0 0x00a00 ∷ drive 6765 7 0x00000 ∷ drive 6765 0 0x04a00 ∷ drive 6765 7 0x00100 ∷ drive 6820 7 0x08100 ∷ drive 6820 0 0x00a00 ∷ drive 6820 7 0x00000 ∷ drive 6820 0 0x04a00 ∷ drive 6820 7 0x00100 ∷ drive 6875 7 0x08100 ∷ drive 6875 0 0x00a00 ∷ drive 6875 7 0x00000 ∷ [])) 6875 ≡ Broken 66 26
unfolding union_below seen_with line_of ones form_out form_in
eleventh_byte = refl

group_2 : judged_whole (reverse (drive 1200 7 0x00280 ∷ drive 3600 7 0x00680 ∷ drive 4800 7 0x10781 ∷ drive 4890 7 0x10581 ∷ drive 5290 0 0x00200 ∷ drive 5380 7 0x10000 ∷ drive 5380 0 0x02a00 ∷ drive 5780 0 0x06a00 ∷ drive 5780 7 0x001c0 ∷ drive 5870 7 0x081c0 ∷ drive 5870 0 0x02a00 ∷ drive 5870 7 0x00000 ∷ drive 5870 0 0x00a00 ∷ drive 6270 0 0x04a00 ∷ drive 6270 7 0x00040 ∷ drive 6325 7 0x08040 ∷ drive 6325 0 0x00a00 ∷ drive 6325 7 0x00000 ∷ [])) 6325 ≡ Broken 16 26
unfolding union_below seen_with line_of ones form_out form_in
group_2 = refl

data_too_soon : judged_whole (reverse (drive 1200 7 0x00280 ∷ drive 3600 7 0x00680 ∷ drive 4800 7 0x10781 ∷ drive 4890 7 0x10581 ∷ drive 5290 0 0x00200 ∷ drive 5380 7 0x10000 ∷ drive 5380 0 0x02a00 ∷ drive 5780 0 0x06a00 ∷ drive 5780 7 0x001c0 ∷ drive 5870 7 0x081c0 ∷ drive 5870 0 0x02a00 ∷ drive 5870 7 0x00000 ∷ drive 5870 0 0x00a00 ∷ drive 6270 0 0x04a00 ∷ drive 6270 7 0x00008 ∷ drive 6325 7 0x08008 ∷ drive 6325 0 0x00a00 ∷ drive 6325 7 0x00000 ∷ drive 6325 0 0x04a00 ∷ drive 6325 7 0x00100 ∷ drive 6380 7 0x08100 ∷ drive 6380 0 0x00a00 ∷ drive 6380 7 0x00000 ∷ drive 6380 0 0x04a00 ∷ drive 6380 7 0x00100 ∷ drive 6435 7 0x08100 ∷ drive 6435 0 0x00a00 ∷ drive 6435 7 0x00000 ∷ drive 6435 0 0x04a00 ∷ drive 6435 7 0x00100 ∷ drive 6490 7 0x08100 ∷ drive 6490 0 0x00a00 ∷ drive 6490 7 0x00000 ∷ drive 6490 0 0x04a00 ∷ drive 6490 7 0x00001 ∷ drive 6545 7 0x08001 ∷ drive 6545 0 0x00a00 ∷ drive 6545 7 0x00000 ∷ drive 6545 0 0x01200 ∷ drive 7345 0 0x01300 ∷ drive 7400 0 0x05300 ∷ [])) 7400 ≡ Broken 41 26
unfolding union_below seen_with line_of ones form_out form_in
data_too_soon = refl

data_in_time : judged_whole (reverse (drive 1200 7 0x00280 ∷ drive 3600 7 0x00680 ∷ drive 4800 7 0x10781 ∷ drive 4890 7 0x10581 ∷ drive 5290 0 0x00200 ∷ drive 5380 7 0x10000 ∷ drive 5380 0 0x02a00 ∷ drive 5780 0 0x06a00 ∷ drive 5780 7 0x001c0 ∷ drive 5870 7 0x081c0 ∷ drive 5870 0 0x02a00 ∷ drive 5870 7 0x00000 ∷ drive 5870 0 0x00a00 ∷ drive 6270 0 0x04a00 ∷ drive 6270 7 0x00008 ∷ drive 6325 7 0x08008 ∷ drive 6325 0 0x00a00 ∷ drive 6325 7 0x00000 ∷ drive 6325 0 0x04a00 ∷ drive 6325 7 0x00100 ∷ drive 6380 7 0x08100 ∷ drive 6380 0 0x00a00 ∷ drive 6380 7 0x00000 ∷ drive 6380 0 0x04a00 ∷ drive 6380 7 0x00100 ∷ drive 6435 7 0x08100 ∷ drive 6435 0 0x00a00 ∷ drive 6435 7 0x00000 ∷ drive 6435 0 0x04a00 ∷ drive 6435 7 0x00100 ∷ drive 6490 7 0x08100 ∷ drive 6490 0 0x00a00 ∷ drive 6490 7 0x00000 ∷ drive 6490 0 0x04a00 ∷ drive 6490 7 0x00001 ∷ drive 6545 7 0x08001 ∷ drive 6545 0 0x00a00 ∷ drive 6545 7 0x00000 ∷ drive 6545 0 0x04a00 ∷ drive 6545 7 0x00100 ∷ drive 6600 7 0x08100 ∷ drive 6600 0 0x00a00 ∷ drive 6600 7 0x00000 ∷ drive 6600 0 0x01200 ∷ drive 7400 0 0x01300 ∷ drive 7455 0 0x05300 ∷ [])) 7455 ≡ Lawful
unfolding union_below seen_with line_of ones form_out form_in
data_in_time = refl

data_without_command : judged_whole (reverse (drive 1200 0 0x00201 ∷ drive 3600 0 0x00601 ∷ drive 4800 0 0x01781 ∷ drive 4890 0 0x01581 ∷ drive 5290 7 0x00200 ∷ drive 5290 0 0x01781 ∷ drive 5380 0 0x01200 ∷ drive 5380 7 0x00000 ∷ drive 5400 0 0x03a80 ∷ drive 5800 0 0x07a80 ∷ drive 5800 7 0x08000 ∷ drive 5800 0 0x03a00 ∷ drive 5800 7 0x00000 ∷ drive 5900 0 0x01200 ∷ drive 6000 0 0x01201 ∷ drive 6300 0 0x05201 ∷ [])) 6300 ≡ Lawful
unfolding union_below seen_with line_of ones form_out form_in
data_without_command = refl

restored : judged_whole (reverse (drive 1200 7 0x00280 ∷ drive 3600 7 0x00680 ∷ drive 4800 7 0x10781 ∷ drive 4890 7 0x10581 ∷ drive 5290 0 0x00200 ∷ drive 5380 7 0x10000 ∷ drive 5380 0 0x02a00 ∷ drive 5780 0 0x06a00 ∷ drive 5780 7 0x001c0 ∷ drive 5870 7 0x081c0 ∷ drive 5870 0 0x02a00 ∷ drive 5870 7 0x00000 ∷ drive 5870 0 0x00a00 ∷ drive 6270 0 0x04a00 ∷ drive 6270 7 0x00008 ∷ drive 6325 7 0x08008 ∷ drive 6325 0 0x00a00 ∷ drive 6325 7 0x00000 ∷ drive 6325 0 0x04a00 ∷ drive 6325 7 0x00100 ∷ drive 6380 7 0x08100 ∷ drive 6380 0 0x00a00 ∷ drive 6380 7 0x00000 ∷ drive 6380 0 0x04a00 ∷ drive 6380 7 0x00100 ∷ drive 6435 7 0x08100 ∷ drive 6435 0 0x00a00 ∷ drive 6435 7 0x00000 ∷ drive 6435 0 0x04a00 ∷ drive 6435 7 0x00100 ∷ drive 6490 7 0x08100 ∷ drive 6490 0 0x00a00 ∷ drive 6490 7 0x00000 ∷ drive 6490 0 0x04a00 ∷ drive 6490 7 0x00001 ∷ drive 6545 7 0x08001 ∷ drive 6545 0 0x00a00 ∷ drive 6545 7 0x00000 ∷ drive 6545 0 0x03a00 ∷ drive 7345 0 0x03b03 ∷ drive 7400 0 0x07b03 ∷ drive 7400 7 0x08000 ∷ drive 7400 0 0x03a00 ∷ drive 7400 7 0x00000 ∷ drive 7400 0 0x00a00 ∷ drive 7800 0 0x04a00 ∷ drive 7800 7 0x00008 ∷ drive 7855 7 0x08008 ∷ drive 7855 0 0x00a00 ∷ drive 7855 7 0x00000 ∷ drive 7855 0 0x04a00 ∷ drive 7855 7 0x00100 ∷ drive 7910 7 0x08100 ∷ drive 7910 0 0x00a00 ∷ drive 7910 7 0x00000 ∷ drive 7910 0 0x04a00 ∷ drive 7910 7 0x00100 ∷ drive 7965 7 0x08100 ∷ drive 7965 0 0x00a00 ∷ drive 7965 7 0x00000 ∷ drive 7965 0 0x04a00 ∷ drive 7965 7 0x00100 ∷ drive 8020 7 0x08100 ∷ drive 8020 0 0x00a00 ∷ drive 8020 7 0x00000 ∷ drive 8020 0 0x04a00 ∷ drive 8020 7 0x00001 ∷ drive 8075 7 0x08001 ∷ drive 8075 0 0x00a00 ∷ drive 8075 7 0x00000 ∷ drive 8075 0 0x04a00 ∷ drive 8075 7 0x00100 ∷ drive 8130 7 0x08100 ∷ drive 8130 0 0x00a00 ∷ drive 8130 7 0x00000 ∷ [])) 8130 ≡ Lawful
unfolding union_below seen_with line_of ones form_out form_in
restored = refl

not_restored : judged_whole (reverse (drive 1200 7 0x00280 ∷ drive 3600 7 0x00680 ∷ drive 4800 7 0x10781 ∷ drive 4890 7 0x10581 ∷ drive 5290 0 0x00200 ∷ drive 5380 7 0x10000 ∷ drive 5380 0 0x02a00 ∷ drive 5780 0 0x06a00 ∷ drive 5780 7 0x001c0 ∷ drive 5870 7 0x081c0 ∷ drive 5870 0 0x02a00 ∷ drive 5870 7 0x00000 ∷ drive 5870 0 0x00a00 ∷ drive 6270 0 0x04a00 ∷ drive 6270 7 0x00008 ∷ drive 6325 7 0x08008 ∷ drive 6325 0 0x00a00 ∷ drive 6325 7 0x00000 ∷ drive 6325 0 0x04a00 ∷ drive 6325 7 0x00100 ∷ drive 6380 7 0x08100 ∷ drive 6380 0 0x00a00 ∷ drive 6380 7 0x00000 ∷ drive 6380 0 0x04a00 ∷ drive 6380 7 0x00100 ∷ drive 6435 7 0x08100 ∷ drive 6435 0 0x00a00 ∷ drive 6435 7 0x00000 ∷ drive 6435 0 0x04a00 ∷ drive 6435 7 0x00100 ∷ drive 6490 7 0x08100 ∷ drive 6490 0 0x00a00 ∷ drive 6490 7 0x00000 ∷ drive 6490 0 0x04a00 ∷ drive 6490 7 0x00001 ∷ drive 6545 7 0x08001 ∷ drive 6545 0 0x00a00 ∷ drive 6545 7 0x00000 ∷ drive 6545 0 0x04a00 ∷ drive 6545 7 0x00008 ∷ drive 6600 7 0x08008 ∷ drive 6600 0 0x00a00 ∷ drive 6600 7 0x00000 ∷ drive 6600 0 0x04a00 ∷ drive 6600 7 0x00100 ∷ drive 6655 7 0x08100 ∷ drive 6655 0 0x00a00 ∷ drive 6655 7 0x00000 ∷ [])) 6655 ≡ Broken 46 26
unfolding union_below seen_with line_of ones form_out form_in
not_restored = refl

void_restore : judged_whole (reverse (drive 1200 7 0x00280 ∷ drive 3600 7 0x00680 ∷ drive 4800 7 0x10781 ∷ drive 4890 7 0x10581 ∷ drive 5290 0 0x00200 ∷ drive 5380 7 0x10000 ∷ drive 5380 0 0x02a00 ∷ drive 5780 0 0x06a00 ∷ drive 5780 7 0x001c0 ∷ drive 5870 7 0x081c0 ∷ drive 5870 0 0x02a00 ∷ drive 5870 7 0x00000 ∷ drive 5870 0 0x00a00 ∷ drive 6270 0 0x04a00 ∷ drive 6270 7 0x00008 ∷ drive 6325 7 0x08008 ∷ drive 6325 0 0x00a00 ∷ drive 6325 7 0x00000 ∷ drive 6325 0 0x04a00 ∷ drive 6325 7 0x00100 ∷ drive 6380 7 0x08100 ∷ drive 6380 0 0x00a00 ∷ drive 6380 7 0x00000 ∷ drive 6380 0 0x04a00 ∷ drive 6380 7 0x00100 ∷ drive 6435 7 0x08100 ∷ drive 6435 0 0x00a00 ∷ drive 6435 7 0x00000 ∷ drive 6435 0 0x04a00 ∷ drive 6435 7 0x00100 ∷ drive 6490 7 0x08100 ∷ drive 6490 0 0x00a00 ∷ drive 6490 7 0x00000 ∷ drive 6490 0 0x04a00 ∷ drive 6490 7 0x00001 ∷ drive 6545 7 0x08001 ∷ drive 6545 0 0x00a00 ∷ drive 6545 7 0x00000 ∷ drive 6545 0 0x03a00 ∷ drive 7345 0 0x03b03 ∷ drive 7400 0 0x07b03 ∷ drive 7400 7 0x18000 ∷ drive 7400 0 0x03a00 ∷ drive 7490 7 0x10000 ∷ drive 7490 0 0x02a00 ∷ drive 7890 0 0x06a00 ∷ drive 7890 7 0x00109 ∷ drive 7980 7 0x08109 ∷ drive 7980 0 0x02a00 ∷ drive 7980 7 0x00000 ∷ drive 7980 0 0x00a00 ∷ drive 8380 0 0x04a00 ∷ drive 8380 7 0x00008 ∷ drive 8435 7 0x08008 ∷ drive 8435 0 0x00a00 ∷ drive 8435 7 0x00000 ∷ drive 8435 0 0x04a00 ∷ drive 8435 7 0x00100 ∷ drive 8490 7 0x08100 ∷ drive 8490 0 0x00a00 ∷ drive 8490 7 0x00000 ∷ [])) 8490 ≡ Broken 59 26
unfolding union_below seen_with line_of ones form_out form_in
void_restore = refl

kept_restore : judged_whole (reverse (drive 1200 7 0x00280 ∷ drive 3600 7 0x00680 ∷ drive 4800 7 0x10781 ∷ drive 4890 7 0x10581 ∷ drive 5290 0 0x00200 ∷ drive 5380 7 0x10000 ∷ drive 5380 0 0x02a00 ∷ drive 5780 0 0x06a00 ∷ drive 5780 7 0x001c0 ∷ drive 5870 7 0x081c0 ∷ drive 5870 0 0x02a00 ∷ drive 5870 7 0x00000 ∷ drive 5870 0 0x00a00 ∷ drive 6270 0 0x04a00 ∷ drive 6270 7 0x00008 ∷ drive 6325 7 0x08008 ∷ drive 6325 0 0x00a00 ∷ drive 6325 7 0x00000 ∷ drive 6325 0 0x04a00 ∷ drive 6325 7 0x00100 ∷ drive 6380 7 0x08100 ∷ drive 6380 0 0x00a00 ∷ drive 6380 7 0x00000 ∷ drive 6380 0 0x04a00 ∷ drive 6380 7 0x00100 ∷ drive 6435 7 0x08100 ∷ drive 6435 0 0x00a00 ∷ drive 6435 7 0x00000 ∷ drive 6435 0 0x04a00 ∷ drive 6435 7 0x00100 ∷ drive 6490 7 0x08100 ∷ drive 6490 0 0x00a00 ∷ drive 6490 7 0x00000 ∷ drive 6490 0 0x04a00 ∷ drive 6490 7 0x00001 ∷ drive 6545 7 0x08001 ∷ drive 6545 0 0x00a00 ∷ drive 6545 7 0x00000 ∷ drive 6545 0 0x03a00 ∷ drive 7345 0 0x03b03 ∷ drive 7400 0 0x07b03 ∷ drive 7400 7 0x18000 ∷ drive 7400 0 0x03a00 ∷ drive 7490 7 0x10000 ∷ drive 7490 0 0x02a00 ∷ drive 7890 0 0x06a00 ∷ drive 7890 7 0x00008 ∷ drive 7980 7 0x08008 ∷ drive 7980 0 0x02a00 ∷ drive 7980 7 0x00000 ∷ drive 7980 0 0x00a00 ∷ drive 8380 0 0x04a00 ∷ drive 8380 7 0x00008 ∷ drive 8435 7 0x08008 ∷ drive 8435 0 0x00a00 ∷ drive 8435 7 0x00000 ∷ drive 8435 0 0x04a00 ∷ drive 8435 7 0x00100 ∷ drive 8490 7 0x08100 ∷ drive 8490 0 0x00a00 ∷ drive 8490 7 0x00000 ∷ [])) 8490 ≡ Lawful
unfolding union_below seen_with line_of ones form_out form_in
kept_restore = refl

frees_while_asking : judged_whole (reverse (drive 1200 7 0x00280 ∷ drive 3600 7 0x00680 ∷ drive 4800 7 0x10781 ∷ drive 4890 7 0x10581 ∷ drive 5290 0 0x00200 ∷ drive 5380 7 0x10000 ∷ drive 5380 0 0x02a00 ∷ drive 5780 0 0x06a00 ∷ drive 5790 0 0x06800 ∷ [])) 5790 ≡ Broken 9 27
unfolding union_below seen_with line_of ones form_out form_in
frees_while_asking = refl

frees_and_raises : judged_whole (reverse (drive 1200 7 0x00280 ∷ drive 3600 7 0x00680 ∷ drive 4800 7 0x10781 ∷ drive 4890 7 0x10581 ∷ drive 5290 0 0x00200 ∷ drive 5380 7 0x10000 ∷ drive 5380 0 0x02a00 ∷ drive 5790 0 0x03800 ∷ [])) 5790 ≡ Broken 8 27
unfolding union_below seen_with line_of ones form_out form_in
frees_and_raises = refl

frees : judged_whole (reverse (drive 1200 7 0x00280 ∷ drive 3600 7 0x00680 ∷ drive 4800 7 0x10781 ∷ drive 4890 7 0x10581 ∷ drive 5290 0 0x00200 ∷ drive 5380 7 0x10000 ∷ drive 5380 0 0x02a00 ∷ drive 5790 0 0x00000 ∷ [])) 5790 ≡ Lawful
unfolding union_below seen_with line_of ones form_out form_in
frees = refl

initiator_releases_bsy_while_asked : judged_whole (reverse (drive 1200 7 0x00280 ∷ drive 3600 7 0x00680 ∷ drive 4800 7 0x10781 ∷ drive 4890 7 0x10581 ∷ drive 5290 0 0x00200 ∷ drive 5380 7 0x10000 ∷ drive 5380 0 0x02a00 ∷ drive 5780 0 0x06a00 ∷ drive 5790 7 0x10200 ∷ drive 5800 7 0x10000 ∷ [])) 5800 ≡ Lawful
unfolding union_below seen_with line_of ones form_out form_in
initiator_releases_bsy_while_asked = refl

frees_with_ack : judged_whole (reverse (drive 1200 7 0x00280 ∷ drive 3600 7 0x00680 ∷ drive 4800 7 0x10781 ∷ drive 4890 7 0x10581 ∷ drive 5290 0 0x00200 ∷ drive 5380 7 0x10000 ∷ drive 5380 0 0x02a00 ∷ drive 5780 0 0x06a00 ∷ drive 5780 7 0x001c0 ∷ drive 5870 7 0x081c0 ∷ drive 5870 0 0x02a00 ∷ drive 5880 0 0x02800 ∷ [])) 5880 ≡ Broken 12 27
unfolding union_below seen_with line_of ones form_out form_in
frees_with_ack = refl

agreed : judged_whole (reverse (drive 1200 7 0x00280 ∷ drive 3600 7 0x00680 ∷ drive 4800 7 0x10781 ∷ drive 4890 7 0x10581 ∷ drive 5290 0 0x00200 ∷ drive 5380 7 0x10000 ∷ drive 5380 0 0x02a00 ∷ drive 5780 0 0x06a00 ∷ drive 5780 7 0x101c0 ∷ drive 5835 7 0x181c0 ∷ drive 5835 0 0x02a00 ∷ drive 5835 7 0x10000 ∷ drive 5835 0 0x06a00 ∷ drive 5835 7 0x10001 ∷ drive 5890 7 0x18001 ∷ drive 5890 0 0x02a00 ∷ drive 5890 7 0x10000 ∷ drive 5890 0 0x06a00 ∷ drive 5890 7 0x10103 ∷ drive 5945 7 0x18103 ∷ drive 5945 0 0x02a00 ∷ drive 5945 7 0x10000 ∷ drive 5945 0 0x06a00 ∷ drive 5945 7 0x10001 ∷ drive 6000 7 0x18001 ∷ drive 6000 0 0x02a00 ∷ drive 6000 7 0x10000 ∷ drive 6000 0 0x06a00 ∷ drive 6000 7 0x10032 ∷ drive 6055 7 0x18032 ∷ drive 6055 0 0x02a00 ∷ drive 6055 7 0x10000 ∷ drive 6055 0 0x06a00 ∷ drive 6055 7 0x00008 ∷ drive 6145 7 0x08008 ∷ drive 6145 0 0x02a00 ∷ drive 6145 7 0x00000 ∷ drive 6145 0 0x03a00 ∷ drive 6945 0 0x03a01 ∷ drive 7000 0 0x07a01 ∷ drive 7000 7 0x08000 ∷ drive 7000 0 0x03a00 ∷ drive 7000 7 0x00000 ∷ drive 7000 0 0x03b03 ∷ drive 7055 0 0x07b03 ∷ drive 7055 7 0x08000 ∷ drive 7055 0 0x03a00 ∷ drive 7055 7 0x00000 ∷ drive 7055 0 0x03a01 ∷ drive 7110 0 0x07a01 ∷ drive 7110 7 0x08000 ∷ drive 7110 0 0x03a00 ∷ drive 7110 7 0x00000 ∷ drive 7110 0 0x03a32 ∷ drive 7165 0 0x07a32 ∷ drive 7165 7 0x08000 ∷ drive 7165 0 0x03a00 ∷ drive 7165 7 0x00000 ∷ drive 7165 0 0x03a08 ∷ drive 7220 0 0x07a08 ∷ drive 7220 7 0x08000 ∷ drive 7220 0 0x03a00 ∷ drive 7220 7 0x00000 ∷ drive 7220 0 0x00a00 ∷ drive 7620 0 0x04a00 ∷ drive 7620 7 0x00008 ∷ drive 7675 7 0x08008 ∷ drive 7675 0 0x00a00 ∷ drive 7675 7 0x00000 ∷ drive 7675 0 0x04a00 ∷ drive 7675 7 0x00100 ∷ drive 7730 7 0x08100 ∷ drive 7730 0 0x00a00 ∷ drive 7730 7 0x00000 ∷ drive 7730 0 0x04a00 ∷ drive 7730 7 0x00100 ∷ drive 7785 7 0x08100 ∷ drive 7785 0 0x00a00 ∷ drive 7785 7 0x00000 ∷ drive 7785 0 0x04a00 ∷ drive 7785 7 0x00100 ∷ drive 7840 7 0x08100 ∷ drive 7840 0 0x00a00 ∷ drive 7840 7 0x00000 ∷ drive 7840 0 0x04a00 ∷ drive 7840 7 0x00001 ∷ drive 7895 7 0x08001 ∷ drive 7895 0 0x00a00 ∷ drive 7895 7 0x00000 ∷ drive 7895 0 0x04a00 ∷ drive 7895 7 0x00100 ∷ drive 7950 7 0x08100 ∷ drive 7950 0 0x00a00 ∷ drive 7950 7 0x00000 ∷ drive 7950 0 0x01200 ∷ drive 8750 0 0x01201 ∷ drive 8805 0 0x05201 ∷ drive 8895 0 0x01201 ∷ drive 9005 0 0x05201 ∷ [])) 9005 ≡ Lawful
unfolding union_below seen_with line_of ones form_out form_in
agreed = refl

not_answered : judged_whole (reverse (drive 1200 7 0x00280 ∷ drive 3600 7 0x00680 ∷ drive 4800 7 0x10781 ∷ drive 4890 7 0x10581 ∷ drive 5290 0 0x00200 ∷ drive 5380 7 0x10000 ∷ drive 5380 0 0x02a00 ∷ drive 5780 0 0x06a00 ∷ drive 5780 7 0x101c0 ∷ drive 5835 7 0x181c0 ∷ drive 5835 0 0x02a00 ∷ drive 5835 7 0x10000 ∷ drive 5835 0 0x06a00 ∷ drive 5835 7 0x10001 ∷ drive 5890 7 0x18001 ∷ drive 5890 0 0x02a00 ∷ drive 5890 7 0x10000 ∷ drive 5890 0 0x06a00 ∷ drive 5890 7 0x10103 ∷ drive 5945 7 0x18103 ∷ drive 5945 0 0x02a00 ∷ drive 5945 7 0x10000 ∷ drive 5945 0 0x06a00 ∷ drive 5945 7 0x10001 ∷ drive 6000 7 0x18001 ∷ drive 6000 0 0x02a00 ∷ drive 6000 7 0x10000 ∷ drive 6000 0 0x06a00 ∷ drive 6000 7 0x10032 ∷ drive 6055 7 0x18032 ∷ drive 6055 0 0x02a00 ∷ drive 6055 7 0x10000 ∷ drive 6055 0 0x06a00 ∷ drive 6055 7 0x00008 ∷ drive 6145 7 0x08008 ∷ drive 6145 0 0x02a00 ∷ drive 6145 7 0x00000 ∷ drive 6145 0 0x00a00 ∷ drive 6545 0 0x04a00 ∷ drive 6545 7 0x00008 ∷ drive 6600 7 0x08008 ∷ drive 6600 0 0x00a00 ∷ drive 6600 7 0x00000 ∷ drive 6600 0 0x04a00 ∷ drive 6600 7 0x00100 ∷ drive 6655 7 0x08100 ∷ drive 6655 0 0x00a00 ∷ drive 6655 7 0x00000 ∷ drive 6655 0 0x04a00 ∷ drive 6655 7 0x00100 ∷ drive 6710 7 0x08100 ∷ drive 6710 0 0x00a00 ∷ drive 6710 7 0x00000 ∷ drive 6710 0 0x04a00 ∷ drive 6710 7 0x00100 ∷ drive 6765 7 0x08100 ∷ drive 6765 0 0x00a00 ∷ drive 6765 7 0x00000 ∷ drive 6765 0 0x04a00 ∷ drive 6765 7 0x00001 ∷ drive 6820 7 0x08001 ∷ drive 6820 0 0x00a00 ∷ drive 6820 7 0x00000 ∷ drive 6820 0 0x04a00 ∷ drive 6820 7 0x00100 ∷ drive 6875 7 0x08100 ∷ drive 6875 0 0x00a00 ∷ drive 6875 7 0x00000 ∷ drive 6875 0 0x01200 ∷ drive 7675 0 0x01201 ∷ drive 7730 0 0x05201 ∷ drive 7820 0 0x01201 ∷ drive 7930 0 0x05201 ∷ [])) 7930 ≡ Broken 71 25
unfolding union_below seen_with line_of ones form_out form_in
not_answered = refl

rejected : judged_whole (reverse (drive 1200 7 0x00280 ∷ drive 3600 7 0x00680 ∷ drive 4800 7 0x10781 ∷ drive 4890 7 0x10581 ∷ drive 5290 0 0x00200 ∷ drive 5380 7 0x10000 ∷ drive 5380 0 0x02a00 ∷ drive 5780 0 0x06a00 ∷ drive 5780 7 0x101c0 ∷ drive 5835 7 0x181c0 ∷ drive 5835 0 0x02a00 ∷ drive 5835 7 0x10000 ∷ drive 5835 0 0x06a00 ∷ drive 5835 7 0x10001 ∷ drive 5890 7 0x18001 ∷ drive 5890 0 0x02a00 ∷ drive 5890 7 0x10000 ∷ drive 5890 0 0x06a00 ∷ drive 5890 7 0x10103 ∷ drive 5945 7 0x18103 ∷ drive 5945 0 0x02a00 ∷ drive 5945 7 0x10000 ∷ drive 5945 0 0x06a00 ∷ drive 5945 7 0x10001 ∷ drive 6000 7 0x18001 ∷ drive 6000 0 0x02a00 ∷ drive 6000 7 0x10000 ∷ drive 6000 0 0x06a00 ∷ drive 6000 7 0x10032 ∷ drive 6055 7 0x18032 ∷ drive 6055 0 0x02a00 ∷ drive 6055 7 0x10000 ∷ drive 6055 0 0x06a00 ∷ drive 6055 7 0x00008 ∷ drive 6145 7 0x08008 ∷ drive 6145 0 0x02a00 ∷ drive 6145 7 0x00000 ∷ drive 6145 0 0x03a00 ∷ drive 6945 0 0x03a07 ∷ drive 7000 0 0x07a07 ∷ drive 7000 7 0x08000 ∷ drive 7000 0 0x03a00 ∷ drive 7000 7 0x00000 ∷ drive 7000 0 0x00a00 ∷ drive 7400 0 0x04a00 ∷ drive 7400 7 0x00008 ∷ drive 7455 7 0x08008 ∷ drive 7455 0 0x00a00 ∷ drive 7455 7 0x00000 ∷ drive 7455 0 0x04a00 ∷ drive 7455 7 0x00100 ∷ drive 7510 7 0x08100 ∷ drive 7510 0 0x00a00 ∷ drive 7510 7 0x00000 ∷ drive 7510 0 0x04a00 ∷ drive 7510 7 0x00100 ∷ drive 7565 7 0x08100 ∷ drive 7565 0 0x00a00 ∷ drive 7565 7 0x00000 ∷ drive 7565 0 0x04a00 ∷ drive 7565 7 0x00100 ∷ drive 7620 7 0x08100 ∷ drive 7620 0 0x00a00 ∷ drive 7620 7 0x00000 ∷ drive 7620 0 0x04a00 ∷ drive 7620 7 0x00001 ∷ drive 7675 7 0x08001 ∷ drive 7675 0 0x00a00 ∷ drive 7675 7 0x00000 ∷ drive 7675 0 0x04a00 ∷ drive 7675 7 0x00100 ∷ drive 7730 7 0x08100 ∷ drive 7730 0 0x00a00 ∷ drive 7730 7 0x00000 ∷ drive 7730 0 0x01200 ∷ drive 8530 0 0x01201 ∷ drive 8585 0 0x05201 ∷ drive 8675 0 0x01201 ∷ drive 8785 0 0x05201 ∷ [])) 8785 ≡ Broken 78 18
unfolding union_below seen_with line_of ones form_out form_in
rejected = refl

answered_with_other_values : judged_whole (reverse (drive 1200 7 0x00280 ∷ drive 3600 7 0x00680 ∷ drive 4800 7 0x10781 ∷ drive 4890 7 0x10581 ∷ drive 5290 0 0x00200 ∷ drive 5380 7 0x10000 ∷ drive 5380 0 0x02a00 ∷ drive 5780 0 0x06a00 ∷ drive 5780 7 0x101c0 ∷ drive 5835 7 0x181c0 ∷ drive 5835 0 0x02a00 ∷ drive 5835 7 0x10000 ∷ drive 5835 0 0x06a00 ∷ drive 5835 7 0x10001 ∷ drive 5890 7 0x18001 ∷ drive 5890 0 0x02a00 ∷ drive 5890 7 0x10000 ∷ drive 5890 0 0x06a00 ∷ drive 5890 7 0x10103 ∷ drive 5945 7 0x18103 ∷ drive 5945 0 0x02a00 ∷ drive 5945 7 0x10000 ∷ drive 5945 0 0x06a00 ∷ drive 5945 7 0x10001 ∷ drive 6000 7 0x18001 ∷ drive 6000 0 0x02a00 ∷ drive 6000 7 0x10000 ∷ drive 6000 0 0x06a00 ∷ drive 6000 7 0x10032 ∷ drive 6055 7 0x18032 ∷ drive 6055 0 0x02a00 ∷ drive 6055 7 0x10000 ∷ drive 6055 0 0x06a00 ∷ drive 6055 7 0x00008 ∷ drive 6145 7 0x08008 ∷ drive 6145 0 0x02a00 ∷ drive 6145 7 0x00000 ∷ drive 6145 0 0x03a00 ∷ drive 6945 0 0x03a04 ∷ drive 7000 0 0x07a04 ∷ drive 7000 7 0x08000 ∷ drive 7000 0 0x03a00 ∷ drive 7000 7 0x00000 ∷ drive 7000 0 0x03a01 ∷ drive 7055 0 0x07a01 ∷ drive 7055 7 0x08000 ∷ drive 7055 0 0x03a00 ∷ drive 7055 7 0x00000 ∷ drive 7055 0 0x03b03 ∷ drive 7110 0 0x07b03 ∷ drive 7110 7 0x08000 ∷ drive 7110 0 0x03a00 ∷ drive 7110 7 0x00000 ∷ drive 7110 0 0x03a01 ∷ drive 7165 0 0x07a01 ∷ drive 7165 7 0x08000 ∷ drive 7165 0 0x03a00 ∷ drive 7165 7 0x00000 ∷ drive 7165 0 0x03b3c ∷ drive 7220 0 0x07b3c ∷ drive 7220 7 0x08000 ∷ drive 7220 0 0x03a00 ∷ drive 7220 7 0x00000 ∷ drive 7220 0 0x03a02 ∷ drive 7275 0 0x07a02 ∷ drive 7275 7 0x08000 ∷ drive 7275 0 0x03a00 ∷ drive 7275 7 0x00000 ∷ drive 7275 0 0x00a00 ∷ drive 7675 0 0x04a00 ∷ drive 7675 7 0x00008 ∷ drive 7730 7 0x08008 ∷ drive 7730 0 0x00a00 ∷ drive 7730 7 0x00000 ∷ drive 7730 0 0x04a00 ∷ drive 7730 7 0x00100 ∷ drive 7785 7 0x08100 ∷ drive 7785 0 0x00a00 ∷ drive 7785 7 0x00000 ∷ drive 7785 0 0x04a00 ∷ drive 7785 7 0x00100 ∷ drive 7840 7 0x08100 ∷ drive 7840 0 0x00a00 ∷ drive 7840 7 0x00000 ∷ drive 7840 0 0x04a00 ∷ drive 7840 7 0x00100 ∷ drive 7895 7 0x08100 ∷ drive 7895 0 0x00a00 ∷ drive 7895 7 0x00000 ∷ drive 7895 0 0x04a00 ∷ drive 7895 7 0x00001 ∷ drive 7950 7 0x08001 ∷ drive 7950 0 0x00a00 ∷ drive 7950 7 0x00000 ∷ drive 7950 0 0x04a00 ∷ drive 7950 7 0x00100 ∷ drive 8005 7 0x08100 ∷ drive 8005 0 0x00a00 ∷ drive 8005 7 0x00000 ∷ drive 8005 0 0x01200 ∷ drive 8805 0 0x01201 ∷ drive 8860 0 0x05201 ∷ drive 8950 0 0x01201 ∷ drive 9060 0 0x05201 ∷ [])) 9060 ≡ Broken 104 22
unfolding union_below seen_with line_of ones form_out form_in
answered_with_other_values = refl

answered_by_asynchronous : judged_whole (reverse (drive 1200 7 0x00280 ∷ drive 3600 7 0x00680 ∷ drive 4800 7 0x10781 ∷ drive 4890 7 0x10581 ∷ drive 5290 0 0x00200 ∷ drive 5380 7 0x10000 ∷ drive 5380 0 0x02a00 ∷ drive 5780 0 0x06a00 ∷ drive 5780 7 0x101c0 ∷ drive 5835 7 0x181c0 ∷ drive 5835 0 0x02a00 ∷ drive 5835 7 0x10000 ∷ drive 5835 0 0x06a00 ∷ drive 5835 7 0x10001 ∷ drive 5890 7 0x18001 ∷ drive 5890 0 0x02a00 ∷ drive 5890 7 0x10000 ∷ drive 5890 0 0x06a00 ∷ drive 5890 7 0x10103 ∷ drive 5945 7 0x18103 ∷ drive 5945 0 0x02a00 ∷ drive 5945 7 0x10000 ∷ drive 5945 0 0x06a00 ∷ drive 5945 7 0x10001 ∷ drive 6000 7 0x18001 ∷ drive 6000 0 0x02a00 ∷ drive 6000 7 0x10000 ∷ drive 6000 0 0x06a00 ∷ drive 6000 7 0x10032 ∷ drive 6055 7 0x18032 ∷ drive 6055 0 0x02a00 ∷ drive 6055 7 0x10000 ∷ drive 6055 0 0x06a00 ∷ drive 6055 7 0x00008 ∷ drive 6145 7 0x08008 ∷ drive 6145 0 0x02a00 ∷ drive 6145 7 0x00000 ∷ drive 6145 0 0x03a00 ∷ drive 6945 0 0x03a01 ∷ drive 7000 0 0x07a01 ∷ drive 7000 7 0x08000 ∷ drive 7000 0 0x03a00 ∷ drive 7000 7 0x00000 ∷ drive 7000 0 0x03b03 ∷ drive 7055 0 0x07b03 ∷ drive 7055 7 0x08000 ∷ drive 7055 0 0x03a00 ∷ drive 7055 7 0x00000 ∷ drive 7055 0 0x03a01 ∷ drive 7110 0 0x07a01 ∷ drive 7110 7 0x08000 ∷ drive 7110 0 0x03a00 ∷ drive 7110 7 0x00000 ∷ drive 7110 0 0x03b3c ∷ drive 7165 0 0x07b3c ∷ drive 7165 7 0x08000 ∷ drive 7165 0 0x03a00 ∷ drive 7165 7 0x00000 ∷ drive 7165 0 0x03b00 ∷ drive 7220 0 0x07b00 ∷ drive 7220 7 0x08000 ∷ drive 7220 0 0x03a00 ∷ drive 7220 7 0x00000 ∷ drive 7220 0 0x00a00 ∷ drive 7620 0 0x04a00 ∷ drive 7620 7 0x00008 ∷ drive 7675 7 0x08008 ∷ drive 7675 0 0x00a00 ∷ drive 7675 7 0x00000 ∷ drive 7675 0 0x04a00 ∷ drive 7675 7 0x00100 ∷ drive 7730 7 0x08100 ∷ drive 7730 0 0x00a00 ∷ drive 7730 7 0x00000 ∷ drive 7730 0 0x04a00 ∷ drive 7730 7 0x00100 ∷ drive 7785 7 0x08100 ∷ drive 7785 0 0x00a00 ∷ drive 7785 7 0x00000 ∷ drive 7785 0 0x04a00 ∷ drive 7785 7 0x00100 ∷ drive 7840 7 0x08100 ∷ drive 7840 0 0x00a00 ∷ drive 7840 7 0x00000 ∷ drive 7840 0 0x04a00 ∷ drive 7840 7 0x00001 ∷ drive 7895 7 0x08001 ∷ drive 7895 0 0x00a00 ∷ drive 7895 7 0x00000 ∷ drive 7895 0 0x04a00 ∷ drive 7895 7 0x00100 ∷ drive 7950 7 0x08100 ∷ drive 7950 0 0x00a00 ∷ drive 7950 7 0x00000 ∷ drive 7950 0 0x01200 ∷ drive 8750 0 0x01201 ∷ drive 8805 0 0x05201 ∷ drive 8895 0 0x01201 ∷ drive 9005 0 0x05201 ∷ [])) 9005 ≡ Broken 98 18
unfolding union_below seen_with line_of ones form_out form_in
answered_by_asynchronous = refl

answer_rejected : judged_whole (reverse (drive 1200 7 0x00280 ∷ drive 3600 7 0x00680 ∷ drive 4800 7 0x10781 ∷ drive 4890 7 0x10581 ∷ drive 5290 0 0x00200 ∷ drive 5380 7 0x10000 ∷ drive 5380 0 0x02a00 ∷ drive 5780 0 0x06a00 ∷ drive 5780 7 0x101c0 ∷ drive 5835 7 0x181c0 ∷ drive 5835 0 0x02a00 ∷ drive 5835 7 0x10000 ∷ drive 5835 0 0x06a00 ∷ drive 5835 7 0x10001 ∷ drive 5890 7 0x18001 ∷ drive 5890 0 0x02a00 ∷ drive 5890 7 0x10000 ∷ drive 5890 0 0x06a00 ∷ drive 5890 7 0x10103 ∷ drive 5945 7 0x18103 ∷ drive 5945 0 0x02a00 ∷ drive 5945 7 0x10000 ∷ drive 5945 0 0x06a00 ∷ drive 5945 7 0x10001 ∷ drive 6000 7 0x18001 ∷ drive 6000 0 0x02a00 ∷ drive 6000 7 0x10000 ∷ drive 6000 0 0x06a00 ∷ drive 6000 7 0x10032 ∷ drive 6055 7 0x18032 ∷ drive 6055 0 0x02a00 ∷ drive 6055 7 0x10000 ∷ drive 6055 0 0x06a00 ∷ drive 6055 7 0x00008 ∷ drive 6145 7 0x08008 ∷ drive 6145 0 0x02a00 ∷ drive 6145 7 0x00000 ∷ drive 6145 0 0x03a00 ∷ drive 6945 0 0x03a01 ∷ drive 7000 0 0x07a01 ∷ drive 7000 7 0x08000 ∷ drive 7000 0 0x03a00 ∷ drive 7000 7 0x00000 ∷ drive 7000 0 0x03b03 ∷ drive 7055 0 0x07b03 ∷ drive 7055 7 0x08000 ∷ drive 7055 0 0x03a00 ∷ drive 7055 7 0x00000 ∷ drive 7055 0 0x03a01 ∷ drive 7110 0 0x07a01 ∷ drive 7110 7 0x08000 ∷ drive 7110 0 0x03a00 ∷ drive 7110 7 0x00000 ∷ drive 7110 0 0x03a32 ∷ drive 7165 0 0x07a32 ∷ drive 7165 7 0x08000 ∷ drive 7165 0 0x03a00 ∷ drive 7165 7 0x00000 ∷ drive 7165 0 0x03a08 ∷ drive 7220 0 0x07a08 ∷ drive 7220 7 0x18000 ∷ drive 7220 0 0x03a00 ∷ drive 7310 7 0x10000 ∷ drive 7310 0 0x02a00 ∷ drive 7710 0 0x06a00 ∷ drive 7710 7 0x00007 ∷ drive 7800 7 0x08007 ∷ drive 7800 0 0x02a00 ∷ drive 7800 7 0x00000 ∷ drive 7800 0 0x00a00 ∷ drive 8200 0 0x04a00 ∷ drive 8200 7 0x00008 ∷ drive 8255 7 0x08008 ∷ drive 8255 0 0x00a00 ∷ drive 8255 7 0x00000 ∷ drive 8255 0 0x04a00 ∷ drive 8255 7 0x00100 ∷ drive 8310 7 0x08100 ∷ drive 8310 0 0x00a00 ∷ drive 8310 7 0x00000 ∷ drive 8310 0 0x04a00 ∷ drive 8310 7 0x00100 ∷ drive 8365 7 0x08100 ∷ drive 8365 0 0x00a00 ∷ drive 8365 7 0x00000 ∷ drive 8365 0 0x04a00 ∷ drive 8365 7 0x00100 ∷ drive 8420 7 0x08100 ∷ drive 8420 0 0x00a00 ∷ drive 8420 7 0x00000 ∷ drive 8420 0 0x04a00 ∷ drive 8420 7 0x00001 ∷ drive 8475 7 0x08001 ∷ drive 8475 0 0x00a00 ∷ drive 8475 7 0x00000 ∷ drive 8475 0 0x04a00 ∷ drive 8475 7 0x00100 ∷ drive 8530 7 0x08100 ∷ drive 8530 0 0x00a00 ∷ drive 8530 7 0x00000 ∷ drive 8530 0 0x01200 ∷ drive 9330 0 0x01201 ∷ drive 9385 0 0x05201 ∷ drive 9475 0 0x01201 ∷ drive 9585 0 0x05201 ∷ [])) 9585 ≡ Broken 104 18
unfolding union_below seen_with line_of ones form_out form_in
answer_rejected = refl

rejected_too_late : judged_whole (reverse (drive 1200 7 0x00280 ∷ drive 3600 7 0x00680 ∷ drive 4800 7 0x10781 ∷ drive 4890 7 0x10581 ∷ drive 5290 0 0x00200 ∷ drive 5380 7 0x10000 ∷ drive 5380 0 0x02a00 ∷ drive 5780 0 0x06a00 ∷ drive 5780 7 0x101c0 ∷ drive 5835 7 0x181c0 ∷ drive 5835 0 0x02a00 ∷ drive 5835 7 0x10000 ∷ drive 5835 0 0x06a00 ∷ drive 5835 7 0x10001 ∷ drive 5890 7 0x18001 ∷ drive 5890 0 0x02a00 ∷ drive 5890 7 0x10000 ∷ drive 5890 0 0x06a00 ∷ drive 5890 7 0x10103 ∷ drive 5945 7 0x18103 ∷ drive 5945 0 0x02a00 ∷ drive 5945 7 0x10000 ∷ drive 5945 0 0x06a00 ∷ drive 5945 7 0x10001 ∷ drive 6000 7 0x18001 ∷ drive 6000 0 0x02a00 ∷ drive 6000 7 0x10000 ∷ drive 6000 0 0x06a00 ∷ drive 6000 7 0x10032 ∷ drive 6055 7 0x18032 ∷ drive 6055 0 0x02a00 ∷ drive 6055 7 0x10000 ∷ drive 6055 0 0x06a00 ∷ drive 6055 7 0x00008 ∷ drive 6145 7 0x08008 ∷ drive 6145 0 0x02a00 ∷ drive 6145 7 0x00000 ∷ drive 6145 0 0x03a00 ∷ drive 6945 0 0x03a01 ∷ drive 7000 0 0x07a01 ∷ drive 7000 7 0x08000 ∷ drive 7000 0 0x03a00 ∷ drive 7000 7 0x00000 ∷ drive 7000 0 0x03b03 ∷ drive 7055 0 0x07b03 ∷ drive 7055 7 0x08000 ∷ drive 7055 0 0x03a00 ∷ drive 7055 7 0x00000 ∷ drive 7055 0 0x03a01 ∷ drive 7110 0 0x07a01 ∷ drive 7110 7 0x08000 ∷ drive 7110 0 0x03a00 ∷ drive 7110 7 0x00000 ∷ drive 7110 0 0x03a32 ∷ drive 7165 0 0x07a32 ∷ drive 7165 7 0x08000 ∷ drive 7165 0 0x03a00 ∷ drive 7165 7 0x00000 ∷ drive 7165 0 0x03a08 ∷ drive 7220 0 0x07a08 ∷ drive 7220 7 0x18000 ∷ drive 7220 0 0x03a00 ∷ drive 7310 7 0x10000 ∷ drive 7310 0 0x02a00 ∷ drive 7710 0 0x06a00 ∷ drive 7710 7 0x10008 ∷ drive 7765 7 0x18008 ∷ drive 7765 0 0x02a00 ∷ drive 7765 7 0x10000 ∷ drive 7765 0 0x06a00 ∷ drive 7765 7 0x00007 ∷ drive 7855 7 0x08007 ∷ drive 7855 0 0x02a00 ∷ drive 7855 7 0x00000 ∷ drive 7855 0 0x00a00 ∷ drive 8255 0 0x04a00 ∷ drive 8255 7 0x00008 ∷ drive 8310 7 0x08008 ∷ drive 8310 0 0x00a00 ∷ drive 8310 7 0x00000 ∷ drive 8310 0 0x04a00 ∷ drive 8310 7 0x00100 ∷ drive 8365 7 0x08100 ∷ drive 8365 0 0x00a00 ∷ drive 8365 7 0x00000 ∷ drive 8365 0 0x04a00 ∷ drive 8365 7 0x00100 ∷ drive 8420 7 0x08100 ∷ drive 8420 0 0x00a00 ∷ drive 8420 7 0x00000 ∷ drive 8420 0 0x04a00 ∷ drive 8420 7 0x00100 ∷ drive 8475 7 0x08100 ∷ drive 8475 0 0x00a00 ∷ drive 8475 7 0x00000 ∷ drive 8475 0 0x04a00 ∷ drive 8475 7 0x00001 ∷ drive 8530 7 0x08001 ∷ drive 8530 0 0x00a00 ∷ drive 8530 7 0x00000 ∷ drive 8530 0 0x04a00 ∷ drive 8530 7 0x00100 ∷ drive 8585 7 0x08100 ∷ drive 8585 0 0x00a00 ∷ drive 8585 7 0x00000 ∷ drive 8585 0 0x01200 ∷ drive 9385 0 0x01201 ∷ drive 9440 0 0x05201 ∷ drive 9530 0 0x01201 ∷ drive 9640 0 0x05201 ∷ [])) 9640 ≡ Lawful
unfolding union_below seen_with line_of ones form_out form_in
rejected_too_late = refl

void_answer : judged_whole (reverse (drive 1200 7 0x00280 ∷ drive 3600 7 0x00680 ∷ drive 4800 7 0x10781 ∷ drive 4890 7 0x10581 ∷ drive 5290 0 0x00200 ∷ drive 5380 7 0x10000 ∷ drive 5380 0 0x02a00 ∷ drive 5780 0 0x06a00 ∷ drive 5780 7 0x101c0 ∷ drive 5835 7 0x181c0 ∷ drive 5835 0 0x02a00 ∷ drive 5835 7 0x10000 ∷ drive 5835 0 0x06a00 ∷ drive 5835 7 0x10001 ∷ drive 5890 7 0x18001 ∷ drive 5890 0 0x02a00 ∷ drive 5890 7 0x10000 ∷ drive 5890 0 0x06a00 ∷ drive 5890 7 0x10103 ∷ drive 5945 7 0x18103 ∷ drive 5945 0 0x02a00 ∷ drive 5945 7 0x10000 ∷ drive 5945 0 0x06a00 ∷ drive 5945 7 0x10001 ∷ drive 6000 7 0x18001 ∷ drive 6000 0 0x02a00 ∷ drive 6000 7 0x10000 ∷ drive 6000 0 0x06a00 ∷ drive 6000 7 0x10032 ∷ drive 6055 7 0x18032 ∷ drive 6055 0 0x02a00 ∷ drive 6055 7 0x10000 ∷ drive 6055 0 0x06a00 ∷ drive 6055 7 0x00008 ∷ drive 6145 7 0x08008 ∷ drive 6145 0 0x02a00 ∷ drive 6145 7 0x00000 ∷ drive 6145 0 0x03a00 ∷ drive 6945 0 0x03a01 ∷ drive 7000 0 0x07a01 ∷ drive 7000 7 0x08000 ∷ drive 7000 0 0x03a00 ∷ drive 7000 7 0x00000 ∷ drive 7000 0 0x03b03 ∷ drive 7055 0 0x07b03 ∷ drive 7055 7 0x08000 ∷ drive 7055 0 0x03a00 ∷ drive 7055 7 0x00000 ∷ drive 7055 0 0x03a01 ∷ drive 7110 0 0x07a01 ∷ drive 7110 7 0x08000 ∷ drive 7110 0 0x03a00 ∷ drive 7110 7 0x00000 ∷ drive 7110 0 0x03a32 ∷ drive 7165 0 0x07a32 ∷ drive 7165 7 0x08000 ∷ drive 7165 0 0x03a00 ∷ drive 7165 7 0x00000 ∷ drive 7165 0 0x03a08 ∷ drive 7220 0 0x07a08 ∷ drive 7220 7 0x18000 ∷ drive 7220 0 0x03a00 ∷ drive 7310 7 0x10000 ∷ drive 7310 0 0x02a00 ∷ drive 7710 0 0x06a00 ∷ drive 7710 7 0x00109 ∷ drive 7800 7 0x08109 ∷ drive 7800 0 0x02a00 ∷ drive 7800 7 0x00000 ∷ drive 7800 0 0x00a00 ∷ drive 8200 0 0x04a00 ∷ drive 8200 7 0x00008 ∷ drive 8255 7 0x08008 ∷ drive 8255 0 0x00a00 ∷ drive 8255 7 0x00000 ∷ drive 8255 0 0x04a00 ∷ drive 8255 7 0x00100 ∷ drive 8310 7 0x08100 ∷ drive 8310 0 0x00a00 ∷ drive 8310 7 0x00000 ∷ drive 8310 0 0x04a00 ∷ drive 8310 7 0x00100 ∷ drive 8365 7 0x08100 ∷ drive 8365 0 0x00a00 ∷ drive 8365 7 0x00000 ∷ drive 8365 0 0x04a00 ∷ drive 8365 7 0x00100 ∷ drive 8420 7 0x08100 ∷ drive 8420 0 0x00a00 ∷ drive 8420 7 0x00000 ∷ drive 8420 0 0x04a00 ∷ drive 8420 7 0x00001 ∷ drive 8475 7 0x08001 ∷ drive 8475 0 0x00a00 ∷ drive 8475 7 0x00000 ∷ drive 8475 0 0x04a00 ∷ drive 8475 7 0x00100 ∷ drive 8530 7 0x08100 ∷ drive 8530 0 0x00a00 ∷ drive 8530 7 0x00000 ∷ drive 8530 0 0x01200 ∷ drive 9330 0 0x01201 ∷ drive 9385 0 0x05201 ∷ drive 9475 0 0x01201 ∷ drive 9585 0 0x05201 ∷ [])) 9585 ≡ Broken 103 25
unfolding union_below seen_with line_of ones form_out form_in
void_answer = refl

void_reject : judged_whole (reverse (drive 1200 7 0x00280 ∷ drive 3600 7 0x00680 ∷ drive 4800 7 0x10781 ∷ drive 4890 7 0x10581 ∷ drive 5290 0 0x00200 ∷ drive 5380 7 0x10000 ∷ drive 5380 0 0x02a00 ∷ drive 5780 0 0x06a00 ∷ drive 5780 7 0x101c0 ∷ drive 5835 7 0x181c0 ∷ drive 5835 0 0x02a00 ∷ drive 5835 7 0x10000 ∷ drive 5835 0 0x06a00 ∷ drive 5835 7 0x10001 ∷ drive 5890 7 0x18001 ∷ drive 5890 0 0x02a00 ∷ drive 5890 7 0x10000 ∷ drive 5890 0 0x06a00 ∷ drive 5890 7 0x10103 ∷ drive 5945 7 0x18103 ∷ drive 5945 0 0x02a00 ∷ drive 5945 7 0x10000 ∷ drive 5945 0 0x06a00 ∷ drive 5945 7 0x10001 ∷ drive 6000 7 0x18001 ∷ drive 6000 0 0x02a00 ∷ drive 6000 7 0x10000 ∷ drive 6000 0 0x06a00 ∷ drive 6000 7 0x10032 ∷ drive 6055 7 0x18032 ∷ drive 6055 0 0x02a00 ∷ drive 6055 7 0x10000 ∷ drive 6055 0 0x06a00 ∷ drive 6055 7 0x00008 ∷ drive 6145 7 0x08008 ∷ drive 6145 0 0x02a00 ∷ drive 6145 7 0x00000 ∷ drive 6145 0 0x03a00 ∷ drive 6945 0 0x03a07 ∷ drive 7000 0 0x07a07 ∷ drive 7000 7 0x18000 ∷ drive 7000 0 0x03a00 ∷ drive 7090 7 0x10000 ∷ drive 7090 0 0x02a00 ∷ drive 7490 0 0x06a00 ∷ drive 7490 7 0x00109 ∷ drive 7580 7 0x08109 ∷ drive 7580 0 0x02a00 ∷ drive 7580 7 0x00000 ∷ drive 7580 0 0x03a00 ∷ drive 8380 0 0x03a01 ∷ drive 8435 0 0x07a01 ∷ drive 8435 7 0x08000 ∷ drive 8435 0 0x03a00 ∷ drive 8435 7 0x00000 ∷ drive 8435 0 0x03b03 ∷ drive 8490 0 0x07b03 ∷ drive 8490 7 0x08000 ∷ drive 8490 0 0x03a00 ∷ drive 8490 7 0x00000 ∷ drive 8490 0 0x03a01 ∷ drive 8545 0 0x07a01 ∷ drive 8545 7 0x08000 ∷ drive 8545 0 0x03a00 ∷ drive 8545 7 0x00000 ∷ drive 8545 0 0x03a32 ∷ drive 8600 0 0x07a32 ∷ drive 8600 7 0x08000 ∷ drive 8600 0 0x03a00 ∷ drive 8600 7 0x00000 ∷ drive 8600 0 0x03a08 ∷ drive 8655 0 0x07a08 ∷ drive 8655 7 0x08000 ∷ drive 8655 0 0x03a00 ∷ drive 8655 7 0x00000 ∷ drive 8655 0 0x00a00 ∷ drive 9055 0 0x04a00 ∷ drive 9055 7 0x00008 ∷ drive 9110 7 0x08008 ∷ drive 9110 0 0x00a00 ∷ drive 9110 7 0x00000 ∷ drive 9110 0 0x04a00 ∷ drive 9110 7 0x00100 ∷ drive 9165 7 0x08100 ∷ drive 9165 0 0x00a00 ∷ drive 9165 7 0x00000 ∷ drive 9165 0 0x04a00 ∷ drive 9165 7 0x00100 ∷ drive 9220 7 0x08100 ∷ drive 9220 0 0x00a00 ∷ drive 9220 7 0x00000 ∷ drive 9220 0 0x04a00 ∷ drive 9220 7 0x00100 ∷ drive 9275 7 0x08100 ∷ drive 9275 0 0x00a00 ∷ drive 9275 7 0x00000 ∷ drive 9275 0 0x04a00 ∷ drive 9275 7 0x00001 ∷ drive 9330 7 0x08001 ∷ drive 9330 0 0x00a00 ∷ drive 9330 7 0x00000 ∷ drive 9330 0 0x04a00 ∷ drive 9330 7 0x00100 ∷ drive 9385 7 0x08100 ∷ drive 9385 0 0x00a00 ∷ drive 9385 7 0x00000 ∷ drive 9385 0 0x01200 ∷ drive 10185 0 0x01201 ∷ drive 10240 0 0x05201 ∷ drive 10330 0 0x01201 ∷ drive 10440 0 0x05201 ∷ [])) 10440 ≡ Lawful
unfolding union_below seen_with line_of ones form_out form_in
void_reject = refl

offer_begun_anew : judged_whole (reverse (drive 1200 7 0x00280 ∷ drive 3600 7 0x00680 ∷ drive 4800 7 0x10781 ∷ drive 4890 7 0x10581 ∷ drive 5290 0 0x00200 ∷ drive 5380 7 0x10000 ∷ drive 5380 0 0x02a00 ∷ drive 5780 0 0x06a00 ∷ drive 5780 7 0x101c0 ∷ drive 5835 7 0x181c0 ∷ drive 5835 0 0x02a00 ∷ drive 5835 7 0x10000 ∷ drive 5835 0 0x06a00 ∷ drive 5835 7 0x10001 ∷ drive 5890 7 0x18001 ∷ drive 5890 0 0x02a00 ∷ drive 5890 7 0x10000 ∷ drive 5890 0 0x06a00 ∷ drive 5890 7 0x10103 ∷ drive 5945 7 0x18103 ∷ drive 5945 0 0x02a00 ∷ drive 5945 7 0x10000 ∷ drive 5945 0 0x06a00 ∷ drive 5945 7 0x10001 ∷ drive 6000 7 0x18001 ∷ drive 6000 0 0x02a00 ∷ drive 6000 7 0x10000 ∷ drive 6000 0 0x06a00 ∷ drive 6000 7 0x10032 ∷ drive 6055 7 0x18032 ∷ drive 6055 0 0x02a00 ∷ drive 6055 7 0x10000 ∷ drive 6055 0 0x06a00 ∷ drive 6055 7 0x00008 ∷ drive 6145 7 0x08008 ∷ drive 6145 0 0x02a00 ∷ drive 6145 7 0x00000 ∷ drive 6145 0 0x06a00 ∷ drive 6145 7 0x001c0 ∷ drive 6200 7 0x081c0 ∷ drive 6200 0 0x02a00 ∷ drive 6200 7 0x00000 ∷ drive 6235 0 0x03a00 ∷ drive 7035 0 0x03a01 ∷ drive 7090 0 0x07a01 ∷ drive 7090 7 0x08000 ∷ drive 7090 0 0x03a00 ∷ drive 7090 7 0x00000 ∷ drive 7090 0 0x03b03 ∷ drive 7145 0 0x07b03 ∷ drive 7145 7 0x08000 ∷ drive 7145 0 0x03a00 ∷ drive 7145 7 0x00000 ∷ drive 7145 0 0x03a01 ∷ drive 7200 0 0x07a01 ∷ drive 7200 7 0x08000 ∷ drive 7200 0 0x03a00 ∷ drive 7200 7 0x00000 ∷ drive 7200 0 0x03a32 ∷ drive 7255 0 0x07a32 ∷ drive 7255 7 0x08000 ∷ drive 7255 0 0x03a00 ∷ drive 7255 7 0x00000 ∷ drive 7255 0 0x03a08 ∷ drive 7310 0 0x07a08 ∷ drive 7310 7 0x08000 ∷ drive 7310 0 0x03a00 ∷ drive 7310 7 0x00000 ∷ drive 7310 0 0x00a00 ∷ drive 7710 0 0x04a00 ∷ drive 7710 7 0x00008 ∷ drive 7765 7 0x08008 ∷ drive 7765 0 0x00a00 ∷ drive 7765 7 0x00000 ∷ drive 7765 0 0x04a00 ∷ drive 7765 7 0x00100 ∷ drive 7820 7 0x08100 ∷ drive 7820 0 0x00a00 ∷ drive 7820 7 0x00000 ∷ drive 7820 0 0x04a00 ∷ drive 7820 7 0x00100 ∷ drive 7875 7 0x08100 ∷ drive 7875 0 0x00a00 ∷ drive 7875 7 0x00000 ∷ drive 7875 0 0x04a00 ∷ drive 7875 7 0x00100 ∷ drive 7930 7 0x08100 ∷ drive 7930 0 0x00a00 ∷ drive 7930 7 0x00000 ∷ drive 7930 0 0x04a00 ∷ drive 7930 7 0x00001 ∷ drive 7985 7 0x08001 ∷ drive 7985 0 0x00a00 ∷ drive 7985 7 0x00000 ∷ drive 7985 0 0x04a00 ∷ drive 7985 7 0x00100 ∷ drive 8040 7 0x08100 ∷ drive 8040 0 0x00a00 ∷ drive 8040 7 0x00000 ∷ drive 8040 0 0x01200 ∷ drive 8840 0 0x01201 ∷ drive 8895 0 0x05201 ∷ drive 8985 0 0x01201 ∷ drive 9095 0 0x05201 ∷ [])) 9095 ≡ Broken 102 25
unfolding union_below seen_with line_of ones form_out form_in
offer_begun_anew = refl

agreement_ended_by_another : judged_whole (reverse (drive 1200 6 0x00240 ∷ drive 3600 6 0x00640 ∷ drive 4800 6 0x10741 ∷ drive 4890 6 0x10541 ∷ drive 5290 0 0x00200 ∷ drive 5380 6 0x10000 ∷ drive 5380 0 0x02a00 ∷ drive 5780 0 0x06a00 ∷ drive 5780 6 0x101c0 ∷ drive 5835 6 0x181c0 ∷ drive 5835 0 0x02a00 ∷ drive 5835 6 0x10000 ∷ drive 5835 0 0x06a00 ∷ drive 5835 6 0x10001 ∷ drive 5890 6 0x18001 ∷ drive 5890 0 0x02a00 ∷ drive 5890 6 0x10000 ∷ drive 5890 0 0x06a00 ∷ drive 5890 6 0x10103 ∷ drive 5945 6 0x18103 ∷ drive 5945 0 0x02a00 ∷ drive 5945 6 0x10000 ∷ drive 5945 0 0x06a00 ∷ drive 5945 6 0x10001 ∷ drive 6000 6 0x18001 ∷ drive 6000 0 0x02a00 ∷ drive 6000 6 0x10000 ∷ drive 6000 0 0x06a00 ∷ drive 6000 6 0x10032 ∷ drive 6055 6 0x18032 ∷ drive 6055 0 0x02a00 ∷ drive 6055 6 0x10000 ∷ drive 6055 0 0x06a00 ∷ drive 6055 6 0x00008 ∷ drive 6145 6 0x08008 ∷ drive 6145 0 0x02a00 ∷ drive 6145 6 0x00000 ∷ drive 6145 0 0x03a00 ∷ drive 6945 0 0x03a01 ∷ drive 7000 0 0x07a01 ∷ drive 7000 6 0x08000 ∷ drive 7000 0 0x03b03 ∷ drive 7000 6 0x00000 ∷ drive 7055 0 0x07b03 ∷ drive 7055 6 0x08000 ∷ drive 7055 0 0x03a01 ∷ drive 7055 6 0x00000 ∷ drive 7110 0 0x07a01 ∷ drive 7110 6 0x08000 ∷ drive 7110 0 0x03a32 ∷ drive 7110 6 0x00000 ∷ drive 7165 0 0x07a32 ∷ drive 7165 6 0x08000 ∷ drive 7165 0 0x03a08 ∷ drive 7165 6 0x00000 ∷ drive 7220 0 0x07a08 ∷ drive 7220 6 0x08000 ∷ drive 7220 0 0x03a00 ∷ drive 7220 6 0x00000 ∷ drive 7220 0 0x00a00 ∷ drive 7620 0 0x04a00 ∷ drive 7620 6 0x00008 ∷ drive 7675 6 0x08008 ∷ drive 7675 0 0x00a00 ∷ drive 7675 6 0x00000 ∷ drive 7675 0 0x04a00 ∷ drive 7675 6 0x00100 ∷ drive 7730 6 0x08100 ∷ drive 7730 0 0x00a00 ∷ drive 7730 6 0x00000 ∷ drive 7730 0 0x04a00 ∷ drive 7730 6 0x00100 ∷ drive 7785 6 0x08100 ∷ drive 7785 0 0x00a00 ∷ drive 7785 6 0x00000 ∷ drive 7785 0 0x04a00 ∷ drive 7785 6 0x00100 ∷ drive 7840 6 0x08100 ∷ drive 7840 0 0x00a00 ∷ drive 7840 6 0x00000 ∷ drive 7840 0 0x04a00 ∷ drive 7840 6 0x00001 ∷ drive 7895 6 0x08001 ∷ drive 7895 0 0x00a00 ∷ drive 7895 6 0x00000 ∷ drive 7895 0 0x04a00 ∷ drive 7895 6 0x00100 ∷ drive 7950 6 0x08100 ∷ drive 7950 0 0x00a00 ∷ drive 7950 6 0x00000 ∷ drive 7950 0 0x01200 ∷ drive 8750 0 0x01300 ∷ drive 8805 0 0x05300 ∷ drive 8805 6 0x08000 ∷ drive 8895 6 0x00000 ∷ drive 8895 0 0x01300 ∷ drive 9005 0 0x05300 ∷ drive 9005 6 0x08000 ∷ drive 9095 6 0x00000 ∷ drive 9095 0 0x01300 ∷ drive 9205 0 0x05300 ∷ drive 9205 6 0x08000 ∷ drive 9295 6 0x00000 ∷ drive 9295 0 0x01300 ∷ drive 9405 0 0x05300 ∷ drive 9405 6 0x08000 ∷ drive 9495 6 0x00000 ∷ drive 9495 0 0x01300 ∷ drive 9605 0 0x05300 ∷ drive 9605 6 0x08000 ∷ drive 9695 6 0x00000 ∷ drive 9695 0 0x01300 ∷ drive 9805 0 0x05300 ∷ drive 9805 6 0x08000 ∷ drive 9895 6 0x00000 ∷ drive 9895 0 0x01300 ∷ drive 10005 0 0x05300 ∷ drive 10005 6 0x08000 ∷ drive 10095 6 0x00000 ∷ drive 10095 0 0x01300 ∷ drive 10205 0 0x05300 ∷ drive 10205 6 0x08000 ∷ drive 10295 6 0x00000 ∷ drive 10295 0 0x01300 ∷ drive 10405 0 0x05300 ∷ drive 10405 6 0x08000 ∷ drive 10495 6 0x00000 ∷ drive 10495 0 0x01300 ∷ drive 10605 0 0x05300 ∷ drive 10605 6 0x08000 ∷ drive 10695 6 0x00000 ∷ drive 10695 0 0x01300 ∷ drive 10805 0 0x05300 ∷ drive 10805 6 0x08000 ∷ drive 10895 6 0x00000 ∷ drive 10895 0 0x01300 ∷ drive 11005 0 0x05300 ∷ drive 11005 6 0x08000 ∷ drive 11095 6 0x00000 ∷ drive 11095 0 0x01300 ∷ drive 11205 0 0x05300 ∷ drive 11205 6 0x08000 ∷ drive 11295 6 0x00000 ∷ drive 11295 0 0x01300 ∷ drive 11405 0 0x05300 ∷ drive 11405 6 0x08000 ∷ drive 11495 6 0x00000 ∷ drive 11495 0 0x01300 ∷ drive 11605 0 0x05300 ∷ drive 11605 6 0x08000 ∷ drive 11695 6 0x00000 ∷ drive 11695 0 0x01300 ∷ drive 11805 0 0x05300 ∷ drive 11805 6 0x08000 ∷ drive 11895 6 0x00000 ∷ drive 11895 0 0x01300 ∷ drive 11905 0 0x01200 ∷ drive 11905 0 0x01b00 ∷ drive 12305 0 0x05b00 ∷ drive 12305 6 0x08000 ∷ drive 12305 0 0x01a00 ∷ drive 12305 6 0x00000 ∷ drive 12305 0 0x03b00 ∷ drive 12705 0 0x07b00 ∷ drive 12705 6 0x08000 ∷ drive 12705 0 0x03a00 ∷ drive 12705 6 0x00000 ∷ drive 12705 0 0x00000 ∷ drive 50000 7 0x00280 ∷ drive 52400 7 0x00680 ∷ drive 53600 7 0x10781 ∷ drive 53690 7 0x10581 ∷ drive 54090 0 0x00200 ∷ drive 54180 7 0x10000 ∷ drive 54180 0 0x02a00 ∷ drive 54580 0 0x06a00 ∷ drive 54580 7 0x10080 ∷ drive 54635 7 0x18080 ∷ drive 54635 0 0x02a00 ∷ drive 54635 7 0x10000 ∷ drive 54635 0 0x06a00 ∷ drive 54635 7 0x0010c ∷ drive 54725 7 0x0810c ∷ drive 54725 0 0x02a00 ∷ drive 54725 7 0x00000 ∷ drive 54725 0 0x00000 ∷ drive 100000 6 0x00240 ∷ drive 102400 6 0x00640 ∷ drive 103600 6 0x10741 ∷ drive 103690 6 0x10541 ∷ drive 104090 0 0x00200 ∷ drive 104180 6 0x10000 ∷ drive 104180 0 0x02a00 ∷ drive 104580 0 0x06a00 ∷ drive 104580 6 0x001c0 ∷ drive 104670 6 0x081c0 ∷ drive 104670 0 0x02a00 ∷ drive 104670 6 0x00000 ∷ drive 104670 0 0x00a00 ∷ drive 105070 0 0x04a00 ∷ drive 105070 6 0x00103 ∷ drive 105125 6 0x08103 ∷ drive 105125 0 0x00a00 ∷ drive 105125 6 0x00000 ∷ drive 105125 0 0x04a00 ∷ drive 105125 6 0x00100 ∷ drive 105180 6 0x08100 ∷ drive 105180 0 0x00a00 ∷ drive 105180 6 0x00000 ∷ drive 105180 0 0x04a00 ∷ drive 105180 6 0x00100 ∷ drive 105235 6 0x08100 ∷ drive 105235 0 0x00a00 ∷ drive 105235 6 0x00000 ∷ drive 105235 0 0x04a00 ∷ drive 105235 6 0x00100 ∷ drive 105290 6 0x08100 ∷ drive 105290 0 0x00a00 ∷ drive 105290 6 0x00000 ∷ drive 105290 0 0x04a00 ∷ drive 105290 6 0x00112 ∷ drive 105345 6 0x08112 ∷ drive 105345 0 0x00a00 ∷ drive 105345 6 0x00000 ∷ drive 105345 0 0x04a00 ∷ drive 105345 6 0x00100 ∷ drive 105400 6 0x08100 ∷ drive 105400 0 0x00a00 ∷ drive 105400 6 0x00000 ∷ drive 105400 0 0x01200 ∷ drive 106200 0 0x01270 ∷ drive 106255 0 0x05270 ∷ drive 106255 6 0x08000 ∷ drive 106255 0 0x01300 ∷ drive 106255 6 0x00000 ∷ drive 106310 0 0x05300 ∷ drive 106310 6 0x08000 ∷ drive 106310 0 0x01300 ∷ drive 106310 6 0x00000 ∷ drive 106365 0 0x05300 ∷ drive 106365 6 0x08000 ∷ drive 106365 0 0x01300 ∷ drive 106365 6 0x00000 ∷ drive 106420 0 0x05300 ∷ drive 106420 6 0x08000 ∷ drive 106420 0 0x01300 ∷ drive 106420 6 0x00000 ∷ drive 106475 0 0x05300 ∷ drive 106475 6 0x08000 ∷ drive 106475 0 0x01300 ∷ drive 106475 6 0x00000 ∷ drive 106530 0 0x05300 ∷ drive 106530 6 0x08000 ∷ drive 106530 0 0x01300 ∷ drive 106530 6 0x00000 ∷ drive 106585 0 0x05300 ∷ drive 106585 6 0x08000 ∷ drive 106585 0 0x0130a ∷ drive 106585 6 0x00000 ∷ drive 106640 0 0x0530a ∷ drive 106640 6 0x08000 ∷ drive 106640 0 0x01300 ∷ drive 106640 6 0x00000 ∷ drive 106695 0 0x05300 ∷ drive 106695 6 0x08000 ∷ drive 106695 0 0x01300 ∷ drive 106695 6 0x00000 ∷ drive 106750 0 0x05300 ∷ drive 106750 6 0x08000 ∷ drive 106750 0 0x01300 ∷ drive 106750 6 0x00000 ∷ drive 106805 0 0x05300 ∷ drive 106805 6 0x08000 ∷ drive 106805 0 0x01300 ∷ drive 106805 6 0x00000 ∷ drive 106860 0 0x05300 ∷ drive 106860 6 0x08000 ∷ drive 106860 0 0x01300 ∷ drive 106860 6 0x00000 ∷ drive 106915 0 0x05300 ∷ drive 106915 6 0x08000 ∷ drive 106915 0 0x01300 ∷ drive 106915 6 0x00000 ∷ drive 106970 0 0x05300 ∷ drive 106970 6 0x08000 ∷ drive 106970 0 0x01300 ∷ drive 106970 6 0x00000 ∷ drive 107025 0 0x05300 ∷ drive 107025 6 0x08000 ∷ drive 107025 0 0x01300 ∷ drive 107025 6 0x00000 ∷ drive 107080 0 0x05300 ∷ drive 107080 6 0x08000 ∷ drive 107080 0 0x01300 ∷ drive 107080 6 0x00000 ∷ drive 107135 0 0x05300 ∷ drive 107135 6 0x08000 ∷ drive 107135 0 0x01300 ∷ drive 107135 6 0x00000 ∷ drive 107190 0 0x05300 ∷ drive 107190 6 0x08000 ∷ drive 107190 0 0x01200 ∷ drive 107190 6 0x00000 ∷ drive 107190 0 0x01b00 ∷ drive 107590 0 0x05b00 ∷ drive 107590 6 0x08000 ∷ drive 107590 0 0x01a00 ∷ drive 107590 6 0x00000 ∷ drive 107590 0 0x03b00 ∷ drive 107990 0 0x07b00 ∷ drive 107990 6 0x08000 ∷ drive 107990 0 0x03a00 ∷ drive 107990 6 0x00000 ∷ drive 107990 0 0x00000 ∷ [])) 107990 ≡ Lawful
unfolding union_below seen_with line_of ones form_out form_in
agreement_ended_by_another = refl

read_6 : judged_whole (reverse (drive 1200 7 0x00280 ∷ drive 3600 7 0x00680 ∷ drive 4800 7 0x10781 ∷ drive 4890 7 0x10581 ∷ drive 5290 0 0x00200 ∷ drive 5380 7 0x10000 ∷ drive 5380 0 0x02a00 ∷ drive 5780 0 0x06a00 ∷ drive 5780 7 0x001c0 ∷ drive 5870 7 0x081c0 ∷ drive 5870 0 0x02a00 ∷ drive 5870 7 0x00000 ∷ drive 5870 0 0x00a00 ∷ drive 6270 0 0x04a00 ∷ drive 6270 7 0x00008 ∷ drive 6325 7 0x08008 ∷ drive 6325 0 0x00a00 ∷ drive 6325 7 0x00000 ∷ drive 6325 0 0x04a00 ∷ drive 6325 7 0x00100 ∷ drive 6380 7 0x08100 ∷ drive 6380 0 0x00a00 ∷ drive 6380 7 0x00000 ∷ drive 6380 0 0x04a00 ∷ drive 6380 7 0x00100 ∷ drive 6435 7 0x08100 ∷ drive 6435 0 0x00a00 ∷ drive 6435 7 0x00000 ∷ drive 6435 0 0x04a00 ∷ drive 6435 7 0x00100 ∷ drive 6490 7 0x08100 ∷ drive 6490 0 0x00a00 ∷ drive 6490 7 0x00000 ∷ drive 6490 0 0x04a00 ∷ drive 6490 7 0x00001 ∷ drive 6545 7 0x08001 ∷ drive 6545 0 0x00a00 ∷ drive 6545 7 0x00000 ∷ drive 6545 0 0x04a00 ∷ drive 6545 7 0x00100 ∷ drive 6600 7 0x08100 ∷ drive 6600 0 0x00a00 ∷ drive 6600 7 0x00000 ∷ drive 6600 0 0x01200 ∷ drive 7400 0 0x01300 ∷ drive 7455 0 0x05300 ∷ drive 7455 7 0x08000 ∷ drive 7455 0 0x01201 ∷ drive 7455 7 0x00000 ∷ drive 7510 0 0x05201 ∷ drive 7510 7 0x08000 ∷ drive 7510 0 0x01202 ∷ drive 7510 7 0x00000 ∷ drive 7565 0 0x05202 ∷ drive 7565 7 0x08000 ∷ drive 7565 0 0x01303 ∷ drive 7565 7 0x00000 ∷ drive 7620 0 0x05303 ∷ drive 7620 7 0x08000 ∷ drive 7620 0 0x01204 ∷ drive 7620 7 0x00000 ∷ drive 7675 0 0x05204 ∷ drive 7675 7 0x08000 ∷ drive 7675 0 0x01305 ∷ drive 7675 7 0x00000 ∷ drive 7730 0 0x05305 ∷ drive 7730 7 0x08000 ∷ drive 7730 0 0x01306 ∷ drive 7730 7 0x00000 ∷ drive 7785 0 0x05306 ∷ drive 7785 7 0x08000 ∷ drive 7785 0 0x01207 ∷ drive 7785 7 0x00000 ∷ drive 7840 0 0x05207 ∷ drive 7840 7 0x08000 ∷ drive 7840 0 0x01208 ∷ drive 7840 7 0x00000 ∷ drive 7895 0 0x05208 ∷ drive 7895 7 0x08000 ∷ drive 7895 0 0x01309 ∷ drive 7895 7 0x00000 ∷ drive 7950 0 0x05309 ∷ drive 7950 7 0x08000 ∷ drive 7950 0 0x0130a ∷ drive 7950 7 0x00000 ∷ drive 8005 0 0x0530a ∷ drive 8005 7 0x08000 ∷ drive 8005 0 0x0120b ∷ drive 8005 7 0x00000 ∷ drive 8060 0 0x0520b ∷ drive 8060 7 0x08000 ∷ drive 8060 0 0x0130c ∷ drive 8060 7 0x00000 ∷ drive 8115 0 0x0530c ∷ drive 8115 7 0x08000 ∷ drive 8115 0 0x0120d ∷ drive 8115 7 0x00000 ∷ drive 8170 0 0x0520d ∷ drive 8170 7 0x08000 ∷ drive 8170 0 0x0120e ∷ drive 8170 7 0x00000 ∷ drive 8225 0 0x0520e ∷ drive 8225 7 0x08000 ∷ drive 8225 0 0x0130f ∷ drive 8225 7 0x00000 ∷ drive 8280 0 0x0530f ∷ drive 8280 7 0x08000 ∷ drive 8280 0 0x01200 ∷ drive 8280 7 0x00000 ∷ drive 8280 0 0x01b00 ∷ drive 8680 0 0x05b00 ∷ drive 8680 7 0x08000 ∷ drive 8680 0 0x01a00 ∷ drive 8680 7 0x00000 ∷ drive 8680 0 0x03b00 ∷ drive 9080 0 0x07b00 ∷ drive 9080 7 0x08000 ∷ drive 9080 0 0x03a00 ∷ drive 9080 7 0x00000 ∷ drive 9080 0 0x00000 ∷ [])) 9080 ≡ Lawful
unfolding union_below seen_with line_of ones form_out form_in
read_6 = refl

times_out : judged_whole (reverse (drive 1200 7 0x00280 ∷ drive 3600 7 0x00680 ∷ drive 4800 7 0x10788 ∷ drive 4890 7 0x10588 ∷ drive 250004890 7 0x10400 ∷ drive 250204980 7 0x00000 ∷ [])) 250204980 ≡ Lawful
unfolding union_below seen_with line_of ones form_out form_in
times_out = refl

reselection_times_out : judged_whole (reverse (drive 1200 0 0x00201 ∷ drive 3600 0 0x00601 ∷ drive 4800 0 0x01781 ∷ drive 4890 0 0x01581 ∷ drive 250004890 0 0x01400 ∷ drive 250204980 0 0x00000 ∷ [])) 250204980 ≡ Lawful
unfolding union_below seen_with line_of ones form_out form_in
reselection_times_out = refl
