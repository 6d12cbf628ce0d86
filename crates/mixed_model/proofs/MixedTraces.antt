-- Small traces of a target of ours, 0, that answers selections, among initiators of others, 6 and 7, computed. The
-- verdicts on them come from an independent program.
use Rattle.std.proofs.Common.{ℕ, ◌≡◌, true, false, List, [], ◌∷◌, None, refl}
use lib.Count.{ones}
use Rattle.bus_trace.specs.LineSet.{set_of, line_of}
use Rattle.bus_trace.specs.View.{union_below}
use Rattle.bus_trace.specs.declared.Row.{Row}
use Rattle.bus_trace.specs.declared.Kind.TheVariants.{Drives, Fault}
use Rattle.bus_rules.specs.msg_grammar.specs.Messages.{form_out, form_in}
use Rattle.bus_rules.specs.Seen.{seen_with}
use Rattle.mixed_model.specs.Playing.{is_played}
use Rattle.mixed_model.specs.Blame.{Nobody, Device, Silence, blame}
use Rattle.mixed_model.specs.Answering.{answering}

abbrev drive : ℕ → ℕ → ℕ → Row
drive time dev lines = record { time = time; dev = dev; kind = Drives (set_of lines) }

-- A selection that the target answers.
abbrev selected : List Row
selected = drive 5290 0 0x00200 ∷ drive 4890 7 0x10581 ∷ drive 4800 7 0x10781 ∷ drive 3600 7 0x00680
    ∷ drive 1200 7 0x00280 ∷ []

-- lawful: the initiator releases SEL two deskew delays after the answer
abbrev lawful : List Row
lawful = drive 5380 7 0x10000 ∷ selected

lawful_is_played : is_played (answering 0) 0 lawful ≡ true
unfolding union_below ones
lawful_is_played = refl

lawful_has_no_blame : blame lawful ≡ Nobody
unfolding union_below seen_with line_of ones form_out form_in
lawful_has_no_blame = refl

-- broken in row 6 by rule 11: it does so a nanosecond early. The target did what it had to.
abbrev early : List Row
early = drive 5379 7 0x10000 ∷ selected

early_is_played : is_played (answering 0) 0 early ≡ true
unfolding union_below ones
early_is_played = refl

early_is_of_7 : blame early ≡ Device 7
unfolding union_below seen_with line_of ones form_out form_in
early_is_of_7 = refl

-- broken in row 4 by rule 7: initiator 6 lost arbitration and has not released its lines, which a row of 7 shows
abbrev late : List Row
late = drive 4800 7 0x10781 ∷ drive 3600 7 0x00680 ∷ drive 1300 6 0x00240 ∷ drive 1200 7 0x00280 ∷ []

late_is_played : is_played (answering 0) 0 late ≡ true
unfolding union_below ones
late_is_played = refl

late_is_silence : blame late ≡ Silence
unfolding union_below seen_with line_of ones form_out form_in
late_is_silence = refl

-- lawful: a fault strikes the IDs at the target, and it does not answer
abbrev strike : ℕ → ℕ → ℕ → Row
strike time dev bit = record { time = time; dev = dev; kind = Fault bit }

abbrev struck : List Row
struck =
    strike 5290 0 3 ∷ drive 4890 7 0x10581 ∷ drive 4800 7 0x10781 ∷ drive 3600 7 0x00680 ∷ drive 1200 7 0x00280 ∷ []

struck_is_played : is_played (answering 0) 0 struck ≡ true
unfolding union_below ones
struck_is_played = refl

struck_answers_no_more : answering 0 struck ≡ None
unfolding union_below ones
struck_answers_no_more = refl

-- The target answers a nanosecond before it is due: rule 10, and it is not played.
abbrev hasty : List Row
hasty = drive 5289 0 0x00200 ∷ drive 4890 7 0x10581 ∷ drive 4800 7 0x10781 ∷ drive 3600 7 0x00680 ∷ drive 1200 7 0x00280
    ∷ []

hasty_is_not_played : is_played (answering 0) 0 hasty ≡ false
unfolding union_below ones
hasty_is_not_played = refl

hasty_is_of_0 : blame hasty ≡ Device 0
unfolding union_below seen_with line_of ones form_out form_in
hasty_is_of_0 = refl
