-- What both ends keep of their negotiation after whole reports of an independent simulator. Written by tools/makers/nego_case.py.
use Rattle.std.proofs.Common.{ℕ, ◌≡◌, true, false, List, [], ◌∷◌, reverse, refl}
use lib.Count.{ones}
use Rattle.bus_trace.specs.LineSet.{set_of}
use Rattle.bus_trace.specs.View.{union_below}
use Rattle.bus_trace.specs.declared.Row.{Row}
use Rattle.bus_trace.specs.declared.Kind.TheVariants.{Drives, Fault}
use Rattle.dialogue_model.specs.bus_phases.specs.declared.words.End.TheVariants as ends
use Rattle.msg_grammar.specs.Messages.{form_out, form_in}
use Rattle.sync_nego.specs.Exchange.{side}
use Rattle.sync_nego.specs.Rows.{turns}

abbrev drive : ℕ → ℕ → ℕ → Row
drive time dev lines = record { time = time; dev = dev; kind = Drives (set_of lines) }

abbrev strike : ℕ → ℕ → ℕ → Row
strike time dev bit = record { time = time; dev = dev; kind = Fault bit }

-- ---- cases/negotiation

abbrev negotiation : List Row
negotiation = drive 1200 7 0x00280 ∷ drive 3600 7 0x00680 ∷ drive 4800 7 0x10781 ∷ drive 4890 7 0x10581 ∷ drive 5290 0 0x00200 ∷ drive 5380 7 0x10000 ∷ drive 5380 0 0x02a00 ∷ drive 5780 0 0x06a00 ∷ drive 5780 7 0x101c0 ∷ drive 5835 7 0x181c0 ∷ drive 5835 0 0x02a00 ∷ drive 5835 7 0x10000 ∷ drive 5835 0 0x06a00 ∷ drive 5835 7 0x10001 ∷ drive 5890 7 0x18001 ∷ drive 5890 0 0x02a00 ∷ drive 5890 7 0x10000 ∷ drive 5890 0 0x06a00 ∷ drive 5890 7 0x10103 ∷ drive 5945 7 0x18103 ∷ drive 5945 0 0x02a00 ∷ drive 5945 7 0x10000 ∷ drive 5945 0 0x06a00 ∷ drive 5945 7 0x10001 ∷ drive 6000 7 0x18001 ∷ drive 6000 0 0x02a00 ∷ drive 6000 7 0x10000 ∷ drive 6000 0 0x06a00 ∷ drive 6000 7 0x10032 ∷ drive 6055 7 0x18032 ∷ drive 6055 0 0x02a00 ∷ drive 6055 7 0x10000 ∷ drive 6055 0 0x06a00 ∷ drive 6055 7 0x00008 ∷ drive 6145 7 0x08008 ∷ drive 6145 0 0x02a00 ∷ drive 6145 7 0x00000 ∷ drive 6145 0 0x03a00 ∷ drive 6945 0 0x03a01 ∷ drive 7000 0 0x07a01 ∷ drive 7000 7 0x08000 ∷ drive 7000 0 0x03b03 ∷ drive 7000 7 0x00000 ∷ drive 7055 0 0x07b03 ∷ strike 7055 7 0 ∷ drive 7055 7 0x18000 ∷ drive 7055 0 0x03a00 ∷ drive 7145 7 0x10000 ∷ drive 7145 0 0x02a00 ∷ drive 7545 0 0x06a00 ∷ drive 7545 7 0x00109 ∷ drive 7635 7 0x08109 ∷ drive 7635 0 0x02a00 ∷ drive 7635 7 0x00000 ∷ drive 7635 0 0x03a00 ∷ drive 8435 0 0x03a01 ∷ drive 8490 0 0x07a01 ∷ drive 8490 7 0x08000 ∷ drive 8490 0 0x03b03 ∷ drive 8490 7 0x00000 ∷ drive 8545 0 0x07b03 ∷ drive 8545 7 0x08000 ∷ drive 8545 0 0x03a01 ∷ drive 8545 7 0x00000 ∷ drive 8600 0 0x07a01 ∷ drive 8600 7 0x08000 ∷ drive 8600 0 0x03a32 ∷ drive 8600 7 0x00000 ∷ drive 8655 0 0x07a32 ∷ drive 8655 7 0x08000 ∷ drive 8655 0 0x03a08 ∷ drive 8655 7 0x00000 ∷ drive 8710 0 0x07a08 ∷ drive 8710 7 0x08000 ∷ drive 8710 0 0x03a00 ∷ drive 8710 7 0x00000 ∷ drive 8710 0 0x00a00 ∷ drive 9110 0 0x04a00 ∷ drive 9110 7 0x00008 ∷ drive 9165 7 0x08008 ∷ drive 9165 0 0x00a00 ∷ drive 9165 7 0x00000 ∷ drive 9165 0 0x04a00 ∷ drive 9165 7 0x00100 ∷ drive 9220 7 0x08100 ∷ drive 9220 0 0x00a00 ∷ drive 9220 7 0x00000 ∷ drive 9220 0 0x04a00 ∷ drive 9220 7 0x00100 ∷ drive 9275 7 0x08100 ∷ drive 9275 0 0x00a00 ∷ drive 9275 7 0x00000 ∷ drive 9275 0 0x04a00 ∷ drive 9275 7 0x00100 ∷ drive 9330 7 0x08100 ∷ drive 9330 0 0x00a00 ∷ drive 9330 7 0x00000 ∷ drive 9330 0 0x04a00 ∷ drive 9330 7 0x00001 ∷ drive 9385 7 0x08001 ∷ drive 9385 0 0x00a00 ∷ drive 9385 7 0x00000 ∷ drive 9385 0 0x04a00 ∷ drive 9385 7 0x00100 ∷ drive 9440 7 0x08100 ∷ drive 9440 0 0x00a00 ∷ drive 9440 7 0x00000 ∷ drive 9440 0 0x01200 ∷ drive 10240 0 0x01300 ∷ drive 10295 0 0x05300 ∷ drive 10295 7 0x08000 ∷ drive 10385 7 0x00000 ∷ drive 10385 0 0x01300 ∷ drive 10395 0 0x01201 ∷ drive 10495 0 0x05201 ∷ drive 10495 7 0x08000 ∷ drive 10585 7 0x00000 ∷ drive 10585 0 0x01201 ∷ drive 10595 0 0x01202 ∷ drive 10695 0 0x05202 ∷ drive 10695 7 0x08000 ∷ drive 10785 7 0x00000 ∷ drive 10785 0 0x01202 ∷ drive 10795 0 0x01303 ∷ drive 10895 0 0x05303 ∷ drive 10895 7 0x08000 ∷ drive 10985 7 0x00000 ∷ drive 10985 0 0x01303 ∷ drive 10995 0 0x01204 ∷ drive 11095 0 0x05204 ∷ drive 11095 7 0x08000 ∷ drive 11185 7 0x00000 ∷ drive 11185 0 0x01204 ∷ drive 11195 0 0x01305 ∷ drive 11295 0 0x05305 ∷ drive 11295 7 0x08000 ∷ drive 11385 7 0x00000 ∷ drive 11385 0 0x01305 ∷ drive 11395 0 0x01306 ∷ drive 11495 0 0x05306 ∷ drive 11495 7 0x08000 ∷ drive 11585 7 0x00000 ∷ drive 11585 0 0x01306 ∷ drive 11595 0 0x01207 ∷ drive 11695 0 0x05207 ∷ drive 11695 7 0x08000 ∷ drive 11785 7 0x00000 ∷ drive 11785 0 0x01207 ∷ drive 11795 0 0x01208 ∷ drive 11895 0 0x05208 ∷ drive 11895 7 0x08000 ∷ drive 11985 7 0x00000 ∷ drive 11985 0 0x01208 ∷ drive 11995 0 0x01309 ∷ drive 12095 0 0x05309 ∷ drive 12095 7 0x08000 ∷ drive 12185 7 0x00000 ∷ drive 12185 0 0x01309 ∷ drive 12195 0 0x0130a ∷ drive 12295 0 0x0530a ∷ drive 12295 7 0x08000 ∷ drive 12385 7 0x00000 ∷ drive 12385 0 0x0130a ∷ drive 12395 0 0x0120b ∷ drive 12495 0 0x0520b ∷ drive 12495 7 0x08000 ∷ drive 12585 7 0x00000 ∷ drive 12585 0 0x0120b ∷ drive 12595 0 0x0130c ∷ drive 12695 0 0x0530c ∷ drive 12695 7 0x08000 ∷ drive 12785 7 0x00000 ∷ drive 12785 0 0x0130c ∷ drive 12795 0 0x0120d ∷ drive 12895 0 0x0520d ∷ drive 12895 7 0x08000 ∷ drive 12985 7 0x00000 ∷ drive 12985 0 0x0120d ∷ drive 12995 0 0x0120e ∷ drive 13095 0 0x0520e ∷ drive 13095 7 0x08000 ∷ drive 13185 7 0x00000 ∷ drive 13185 0 0x0120e ∷ drive 13195 0 0x0130f ∷ drive 13295 0 0x0530f ∷ drive 13295 7 0x08000 ∷ drive 13385 7 0x00000 ∷ drive 13385 0 0x0130f ∷ drive 13395 0 0x01200 ∷ drive 13395 0 0x01b00 ∷ drive 13795 0 0x05b00 ∷ drive 13795 7 0x08000 ∷ drive 13795 0 0x01a00 ∷ drive 13795 7 0x00000 ∷ drive 13795 0 0x03b00 ∷ drive 14195 0 0x07b00 ∷ drive 14195 7 0x08000 ∷ drive 14195 0 0x03a00 ∷ drive 14195 7 0x00000 ∷ drive 14195 0 0x00000 ∷ []

negotiation_initiator_7 : (side false ends.Initiator (record { period = 50; offset = 8 }) (turns (reverse negotiation) 7 0)).nego ≡ record { own = record { period = 50; offset = 8 }; agreed = record { period = 50; offset = 8 }; may_offer = false }
unfolding ones union_below form_out form_in
negotiation_initiator_7 = refl

negotiation_target_0 : (side false ends.Target (record { period = 50; offset = 8 }) (turns (reverse negotiation) 7 0)).nego ≡ record { own = record { period = 50; offset = 8 }; agreed = record { period = 50; offset = 8 }; may_offer = false }
unfolding ones union_below form_out form_in
negotiation_target_0 = refl

-- ---- due_cases/request_of_a_target_struck

abbrev request_of_a_target_struck : List Row
request_of_a_target_struck = drive 1200 5 0x00220 ∷ drive 3600 5 0x00620 ∷ drive 4800 5 0x10724 ∷ drive 4890 5 0x10524 ∷ drive 5307 2 0x00200 ∷ drive 5397 5 0x10000 ∷ drive 5414 2 0x02a00 ∷ drive 5831 2 0x06a00 ∷ drive 5831 5 0x001c0 ∷ drive 5921 5 0x081c0 ∷ drive 5938 2 0x02a00 ∷ drive 5938 5 0x00000 ∷ drive 5955 2 0x03a00 ∷ drive 6772 2 0x03a01 ∷ drive 6844 2 0x07a01 ∷ drive 6844 5 0x08000 ∷ drive 6861 2 0x03b03 ∷ drive 6861 5 0x00000 ∷ drive 6933 2 0x07b03 ∷ drive 6933 5 0x08000 ∷ drive 6950 2 0x03a01 ∷ drive 6950 5 0x00000 ∷ drive 7022 2 0x07a01 ∷ strike 7022 5 6 ∷ drive 7022 5 0x18000 ∷ drive 7039 2 0x03a00 ∷ drive 7112 5 0x10000 ∷ drive 7129 2 0x02a00 ∷ drive 7546 2 0x06a00 ∷ drive 7546 5 0x00109 ∷ drive 7636 5 0x08109 ∷ drive 7653 2 0x02a00 ∷ drive 7653 5 0x00000 ∷ drive 7670 2 0x03a00 ∷ drive 8487 2 0x03a01 ∷ drive 8559 2 0x07a01 ∷ drive 8559 5 0x08000 ∷ drive 8576 2 0x03b03 ∷ drive 8576 5 0x00000 ∷ drive 8648 2 0x07b03 ∷ drive 8648 5 0x08000 ∷ drive 8665 2 0x03a01 ∷ drive 8665 5 0x00000 ∷ drive 8737 2 0x07a01 ∷ drive 8737 5 0x08000 ∷ drive 8754 2 0x03a19 ∷ drive 8754 5 0x00000 ∷ drive 8826 2 0x07a19 ∷ drive 8826 5 0x08000 ∷ drive 8843 2 0x03b03 ∷ drive 8843 5 0x00000 ∷ drive 8915 2 0x07b03 ∷ drive 8915 5 0x18000 ∷ drive 8932 2 0x03a00 ∷ drive 9005 5 0x10000 ∷ drive 9022 2 0x02a00 ∷ drive 9439 2 0x06a00 ∷ drive 9439 5 0x10001 ∷ drive 9494 5 0x18001 ∷ drive 9511 2 0x02a00 ∷ drive 9511 5 0x10000 ∷ drive 9528 2 0x06a00 ∷ drive 9528 5 0x10103 ∷ drive 9583 5 0x18103 ∷ drive 9600 2 0x02a00 ∷ drive 9600 5 0x10000 ∷ drive 9617 2 0x06a00 ∷ drive 9617 5 0x10001 ∷ drive 9672 5 0x18001 ∷ drive 9689 2 0x02a00 ∷ drive 9689 5 0x10000 ∷ drive 9706 2 0x06a00 ∷ drive 9706 5 0x1011e ∷ drive 9761 5 0x1811e ∷ strike 9761 2 1 ∷ drive 9778 2 0x02a00 ∷ drive 9778 5 0x10000 ∷ drive 9795 2 0x06a00 ∷ drive 9795 5 0x00103 ∷ drive 9885 5 0x08103 ∷ drive 9902 2 0x02a00 ∷ drive 9902 5 0x00000 ∷ drive 9919 2 0x06a00 ∷ drive 9919 5 0x10001 ∷ drive 10009 5 0x18001 ∷ drive 10026 2 0x02a00 ∷ drive 10026 5 0x10000 ∷ drive 10043 2 0x06a00 ∷ drive 10043 5 0x10103 ∷ drive 10098 5 0x18103 ∷ drive 10115 2 0x02a00 ∷ drive 10115 5 0x10000 ∷ drive 10132 2 0x06a00 ∷ drive 10132 5 0x10001 ∷ drive 10187 5 0x18001 ∷ drive 10204 2 0x02a00 ∷ drive 10204 5 0x10000 ∷ drive 10221 2 0x06a00 ∷ drive 10221 5 0x1011e ∷ drive 10276 5 0x1811e ∷ drive 10293 2 0x02a00 ∷ drive 10293 5 0x10000 ∷ drive 10310 2 0x06a00 ∷ drive 10310 5 0x00103 ∷ drive 10400 5 0x08103 ∷ drive 10417 2 0x02a00 ∷ drive 10417 5 0x00000 ∷ drive 10434 2 0x00a00 ∷ drive 10851 2 0x04a00 ∷ drive 10851 5 0x00112 ∷ drive 10906 5 0x08112 ∷ drive 10923 2 0x00a00 ∷ drive 10923 5 0x00000 ∷ drive 10940 2 0x04a00 ∷ drive 10940 5 0x00100 ∷ drive 10995 5 0x08100 ∷ drive 11012 2 0x00a00 ∷ drive 11012 5 0x00000 ∷ drive 11029 2 0x04a00 ∷ drive 11029 5 0x00100 ∷ drive 11084 5 0x08100 ∷ drive 11101 2 0x00a00 ∷ drive 11101 5 0x00000 ∷ drive 11118 2 0x04a00 ∷ drive 11118 5 0x00100 ∷ drive 11173 5 0x08100 ∷ drive 11190 2 0x00a00 ∷ drive 11190 5 0x00000 ∷ drive 11207 2 0x04a00 ∷ drive 11207 5 0x00106 ∷ drive 11262 5 0x08106 ∷ drive 11279 2 0x00a00 ∷ drive 11279 5 0x00000 ∷ drive 11296 2 0x04a00 ∷ drive 11296 5 0x00100 ∷ drive 11351 5 0x08100 ∷ drive 11368 2 0x00a00 ∷ drive 11368 5 0x00000 ∷ drive 11385 2 0x01200 ∷ drive 12202 2 0x01300 ∷ drive 12274 2 0x05300 ∷ drive 12274 5 0x08000 ∷ drive 12304 5 0x00000 ∷ drive 12321 2 0x01300 ∷ drive 12411 2 0x05300 ∷ drive 12411 5 0x08000 ∷ drive 12441 5 0x00000 ∷ drive 12458 2 0x01300 ∷ drive 12463 2 0x01202 ∷ drive 12548 2 0x05202 ∷ drive 12548 5 0x08000 ∷ drive 12578 5 0x00000 ∷ drive 12595 2 0x01202 ∷ drive 12685 2 0x05202 ∷ drive 12685 5 0x08000 ∷ drive 12715 5 0x00000 ∷ drive 12732 2 0x01202 ∷ drive 12737 2 0x0121f ∷ drive 12822 2 0x0521f ∷ drive 12822 5 0x08000 ∷ drive 12852 5 0x00000 ∷ drive 12869 2 0x0121f ∷ drive 12874 2 0x01300 ∷ drive 12959 2 0x05300 ∷ drive 12959 5 0x08000 ∷ drive 12989 5 0x00000 ∷ drive 13006 2 0x01300 ∷ drive 13011 2 0x01200 ∷ drive 13011 2 0x01b00 ∷ drive 13428 2 0x05b00 ∷ drive 13428 5 0x08000 ∷ drive 13445 2 0x01a00 ∷ drive 13445 5 0x00000 ∷ drive 13462 2 0x03b00 ∷ drive 13879 2 0x07b00 ∷ drive 13879 5 0x08000 ∷ drive 13896 2 0x03a00 ∷ drive 13896 5 0x00000 ∷ drive 13913 2 0x00000 ∷ []

request_of_a_target_struck_initiator_5 : (side true ends.Initiator (record { period = 30; offset = 4 }) (turns (reverse request_of_a_target_struck) 5 2)).nego ≡ record { own = record { period = 30; offset = 4 }; agreed = record { period = 30; offset = 3 }; may_offer = false }
unfolding ones union_below form_out form_in
request_of_a_target_struck_initiator_5 = refl

request_of_a_target_struck_target_2 : (side true ends.Target (record { period = 25; offset = 3 }) (turns (reverse request_of_a_target_struck) 5 2)).nego ≡ record { own = record { period = 25; offset = 3 }; agreed = record { period = 30; offset = 3 }; may_offer = false }
unfolding ones union_below form_out form_in
request_of_a_target_struck_target_2 = refl

-- ---- due_cases/offset_255

abbrev offset_255 : List Row
offset_255 = drive 1200 5 0x00220 ∷ drive 1250 7 0x00280 ∷ drive 3700 7 0x00680 ∷ drive 3700 5 0x00000 ∷ drive 4950 7 0x10788 ∷ drive 5090 7 0x10588 ∷ drive 5560 3 0x00200 ∷ drive 5700 7 0x10000 ∷ drive 5770 3 0x02a00 ∷ drive 6240 3 0x06a00 ∷ drive 6290 7 0x101c0 ∷ drive 6395 7 0x181c0 ∷ drive 6465 3 0x02a00 ∷ drive 6515 7 0x10000 ∷ drive 6585 3 0x06a00 ∷ drive 6635 7 0x10001 ∷ drive 6740 7 0x18001 ∷ drive 6810 3 0x02a00 ∷ drive 6860 7 0x10000 ∷ drive 6930 3 0x06a00 ∷ drive 6980 7 0x10103 ∷ drive 7085 7 0x18103 ∷ drive 7155 3 0x02a00 ∷ drive 7205 7 0x10000 ∷ drive 7275 3 0x06a00 ∷ drive 7325 7 0x10001 ∷ drive 7430 7 0x18001 ∷ drive 7500 3 0x02a00 ∷ drive 7550 7 0x10000 ∷ drive 7620 3 0x06a00 ∷ drive 7670 7 0x10032 ∷ drive 7775 7 0x18032 ∷ drive 7845 3 0x02a00 ∷ drive 7895 7 0x10000 ∷ drive 7965 3 0x06a00 ∷ drive 8015 7 0x001ff ∷ drive 8155 7 0x081ff ∷ drive 8225 3 0x02a00 ∷ drive 8275 7 0x00000 ∷ drive 8345 3 0x03a00 ∷ drive 9215 3 0x03a07 ∷ drive 9340 3 0x07a07 ∷ drive 9390 7 0x08000 ∷ drive 9460 3 0x03a00 ∷ drive 9510 7 0x00000 ∷ drive 9580 3 0x00a00 ∷ drive 10050 3 0x04a00 ∷ drive 10100 7 0x00103 ∷ drive 10205 7 0x08103 ∷ drive 10275 3 0x00a00 ∷ drive 10325 7 0x00000 ∷ drive 10395 3 0x04a00 ∷ drive 10445 7 0x00100 ∷ drive 10550 7 0x08100 ∷ drive 10620 3 0x00a00 ∷ drive 10670 7 0x00000 ∷ drive 10740 3 0x04a00 ∷ drive 10790 7 0x00100 ∷ drive 10895 7 0x08100 ∷ drive 10965 3 0x00a00 ∷ drive 11015 7 0x00000 ∷ drive 11085 3 0x04a00 ∷ drive 11135 7 0x00100 ∷ drive 11240 7 0x08100 ∷ drive 11310 3 0x00a00 ∷ drive 11360 7 0x00000 ∷ drive 11430 3 0x04a00 ∷ drive 11480 7 0x00004 ∷ drive 11585 7 0x08004 ∷ drive 11655 3 0x00a00 ∷ drive 11705 7 0x00000 ∷ drive 11775 3 0x04a00 ∷ drive 11825 7 0x00100 ∷ drive 11930 7 0x08100 ∷ drive 12000 3 0x00a00 ∷ drive 12050 7 0x00000 ∷ drive 12120 3 0x01200 ∷ drive 12990 3 0x01270 ∷ drive 13115 3 0x05270 ∷ drive 13165 7 0x08000 ∷ drive 13235 3 0x01300 ∷ drive 13285 7 0x00000 ∷ drive 13360 3 0x05300 ∷ drive 13410 7 0x08000 ∷ drive 13480 3 0x01300 ∷ drive 13530 7 0x00000 ∷ drive 13605 3 0x05300 ∷ drive 13655 7 0x08000 ∷ drive 13725 3 0x01300 ∷ drive 13775 7 0x00000 ∷ drive 13850 3 0x05300 ∷ drive 13900 7 0x08000 ∷ drive 13970 3 0x01200 ∷ drive 14020 7 0x00000 ∷ drive 14090 3 0x01b00 ∷ drive 14560 3 0x05b00 ∷ drive 14610 7 0x08000 ∷ drive 14680 3 0x01a00 ∷ drive 14730 7 0x00000 ∷ drive 14800 3 0x03b00 ∷ drive 15270 3 0x07b00 ∷ drive 15320 7 0x08000 ∷ drive 15390 3 0x03a00 ∷ drive 15440 7 0x00000 ∷ drive 15510 3 0x00000 ∷ drive 16710 5 0x00220 ∷ drive 19110 5 0x00620 ∷ drive 20310 5 0x10730 ∷ drive 20400 5 0x10530 ∷ drive 20800 4 0x00200 ∷ drive 20890 5 0x10000 ∷ drive 20890 4 0x02a00 ∷ drive 21290 4 0x06a00 ∷ drive 21290 5 0x100c7 ∷ drive 21345 5 0x180c7 ∷ drive 21345 4 0x02a00 ∷ drive 21345 5 0x10000 ∷ drive 21345 4 0x06a00 ∷ drive 21345 5 0x10001 ∷ drive 21400 5 0x18001 ∷ drive 21400 4 0x02a00 ∷ drive 21400 5 0x10000 ∷ drive 21400 4 0x06a00 ∷ drive 21400 5 0x10103 ∷ drive 21455 5 0x18103 ∷ drive 21455 4 0x02a00 ∷ drive 21455 5 0x10000 ∷ drive 21455 4 0x06a00 ∷ drive 21455 5 0x10001 ∷ drive 21510 5 0x18001 ∷ drive 21510 4 0x02a00 ∷ drive 21510 5 0x10000 ∷ drive 21510 4 0x06a00 ∷ drive 21510 5 0x10046 ∷ drive 21565 5 0x18046 ∷ drive 21565 4 0x02a00 ∷ drive 21565 5 0x10000 ∷ drive 21565 4 0x06a00 ∷ drive 21565 5 0x00002 ∷ drive 21655 5 0x08002 ∷ drive 21655 4 0x02a00 ∷ drive 21655 5 0x00000 ∷ drive 21655 4 0x03a00 ∷ drive 22455 4 0x03a01 ∷ drive 22510 4 0x07a01 ∷ drive 22510 5 0x08000 ∷ drive 22510 4 0x03b03 ∷ drive 22510 5 0x00000 ∷ drive 22565 4 0x07b03 ∷ drive 22565 5 0x08000 ∷ drive 22565 4 0x03a01 ∷ drive 22565 5 0x00000 ∷ drive 22620 4 0x07a01 ∷ drive 22620 5 0x08000 ∷ drive 22620 4 0x03a46 ∷ drive 22620 5 0x00000 ∷ drive 22675 4 0x07a46 ∷ drive 22675 5 0x08000 ∷ drive 22675 4 0x03b00 ∷ drive 22675 5 0x00000 ∷ drive 22730 4 0x07b00 ∷ drive 22730 5 0x08000 ∷ drive 22730 4 0x03a00 ∷ drive 22730 5 0x00000 ∷ drive 22730 4 0x00a00 ∷ drive 23130 4 0x04a00 ∷ drive 23130 5 0x00112 ∷ drive 23185 5 0x08112 ∷ drive 23185 4 0x00a00 ∷ drive 23185 5 0x00000 ∷ drive 23185 4 0x04a00 ∷ drive 23185 5 0x00100 ∷ drive 23240 5 0x08100 ∷ drive 23240 4 0x00a00 ∷ drive 23240 5 0x00000 ∷ drive 23240 4 0x04a00 ∷ drive 23240 5 0x00100 ∷ drive 23295 5 0x08100 ∷ drive 23295 4 0x00a00 ∷ drive 23295 5 0x00000 ∷ drive 23295 4 0x04a00 ∷ drive 23295 5 0x00100 ∷ drive 23350 5 0x08100 ∷ drive 23350 4 0x00a00 ∷ drive 23350 5 0x00000 ∷ drive 23350 4 0x04a00 ∷ drive 23350 5 0x00105 ∷ drive 23405 5 0x08105 ∷ drive 23405 4 0x00a00 ∷ drive 23405 5 0x00000 ∷ drive 23405 4 0x04a00 ∷ drive 23405 5 0x00100 ∷ drive 23460 5 0x08100 ∷ drive 23460 4 0x00a00 ∷ drive 23460 5 0x00000 ∷ drive 23460 4 0x01200 ∷ drive 24260 4 0x0127f ∷ drive 24315 4 0x0527f ∷ drive 24315 5 0x08000 ∷ drive 24315 4 0x01300 ∷ drive 24315 5 0x00000 ∷ drive 24370 4 0x05300 ∷ drive 24370 5 0x08000 ∷ drive 24370 4 0x01202 ∷ drive 24370 5 0x00000 ∷ drive 24425 4 0x05202 ∷ drive 24425 5 0x08000 ∷ drive 24425 4 0x01202 ∷ drive 24425 5 0x00000 ∷ drive 24480 4 0x05202 ∷ drive 24480 5 0x08000 ∷ drive 24480 4 0x0121f ∷ drive 24480 5 0x00000 ∷ drive 24535 4 0x0521f ∷ drive 24535 5 0x08000 ∷ drive 24535 4 0x01200 ∷ drive 24535 5 0x00000 ∷ drive 24535 4 0x01b00 ∷ drive 24935 4 0x05b00 ∷ drive 24935 5 0x08000 ∷ drive 24935 4 0x01a00 ∷ drive 24935 5 0x00000 ∷ drive 24935 4 0x03b00 ∷ drive 25335 4 0x07b00 ∷ drive 25335 5 0x08000 ∷ drive 25335 4 0x03a00 ∷ drive 25335 5 0x00000 ∷ drive 25335 4 0x00000 ∷ []

offset_255_initiator_7 : (side false ends.Initiator (record { period = 50; offset = 255 }) (turns (reverse offset_255) 7 3)).nego ≡ record { own = record { period = 50; offset = 255 }; agreed = record { period = 0; offset = 0 }; may_offer = false }
unfolding ones union_below form_out form_in
offset_255_initiator_7 = refl

offset_255_target_3 : (side false ends.Target (record { period = 80; offset = 16 }) (turns (reverse offset_255) 7 3)).nego ≡ record { own = record { period = 80; offset = 16 }; agreed = record { period = 0; offset = 0 }; may_offer = false }
unfolding ones union_below form_out form_in
offset_255_target_3 = refl

offset_255_initiator_5 : (side false ends.Initiator (record { period = 70; offset = 2 }) (turns (reverse offset_255) 5 4)).nego ≡ record { own = record { period = 70; offset = 2 }; agreed = record { period = 70; offset = 0 }; may_offer = false }
unfolding ones union_below form_out form_in
offset_255_initiator_5 = refl

offset_255_target_4 : (side false ends.Target (record { period = 0; offset = 5 }) (turns (reverse offset_255) 5 4)).nego ≡ record { own = record { period = 0; offset = 5 }; agreed = record { period = 70; offset = 0 }; may_offer = false }
unfolding ones union_below form_out form_in
offset_255_target_4 = refl

-- ---- due_cases/text_two

abbrev text_two : List Row
text_two = drive 1203 6 0x00240 ∷ drive 3606 6 0x00640 ∷ drive 4809 6 0x10742 ∷ drive 4902 6 0x10542 ∷ drive 5307 1 0x00200 ∷ drive 5400 6 0x10000 ∷ drive 5405 1 0x02a00 ∷ drive 5810 1 0x06a00 ∷ drive 5813 6 0x000c4 ∷ drive 5906 6 0x080c4 ∷ drive 5911 1 0x02a00 ∷ drive 5914 6 0x00000 ∷ drive 5919 1 0x03a00 ∷ drive 6724 1 0x03a01 ∷ drive 6784 1 0x07a01 ∷ drive 6787 6 0x08000 ∷ drive 6792 1 0x03b03 ∷ drive 6795 6 0x00000 ∷ drive 6852 1 0x07b03 ∷ drive 6855 6 0x08000 ∷ drive 6860 1 0x03a01 ∷ drive 6863 6 0x00000 ∷ drive 6920 1 0x07a01 ∷ drive 6923 6 0x08000 ∷ drive 6928 1 0x03b1e ∷ drive 6931 6 0x00000 ∷ drive 6988 1 0x07b1e ∷ drive 6991 6 0x08000 ∷ drive 6996 1 0x03a08 ∷ drive 6999 6 0x00000 ∷ drive 7056 1 0x07a08 ∷ drive 7059 6 0x18000 ∷ drive 7064 1 0x03a00 ∷ drive 7152 6 0x10000 ∷ drive 7157 1 0x02a00 ∷ drive 7562 1 0x06a00 ∷ drive 7565 6 0x10001 ∷ drive 7623 6 0x18001 ∷ drive 7628 1 0x02a00 ∷ drive 7631 6 0x10000 ∷ drive 7636 1 0x06a00 ∷ drive 7639 6 0x10103 ∷ drive 7697 6 0x18103 ∷ drive 7702 1 0x02a00 ∷ drive 7705 6 0x10000 ∷ drive 7710 1 0x06a00 ∷ drive 7713 6 0x10001 ∷ drive 7771 6 0x18001 ∷ drive 7776 1 0x02a00 ∷ drive 7779 6 0x10000 ∷ drive 7784 1 0x06a00 ∷ drive 7787 6 0x1011e ∷ drive 7845 6 0x1811e ∷ drive 7850 1 0x02a00 ∷ drive 7853 6 0x10000 ∷ drive 7858 1 0x06a00 ∷ drive 7861 6 0x00008 ∷ drive 7954 6 0x08008 ∷ drive 7959 1 0x02a00 ∷ drive 7962 6 0x00000 ∷ drive 7967 1 0x00a00 ∷ drive 8372 1 0x04a00 ∷ drive 8375 6 0x00100 ∷ drive 8433 6 0x08100 ∷ drive 8438 1 0x00a00 ∷ drive 8441 6 0x00000 ∷ drive 8446 1 0x04a00 ∷ drive 8449 6 0x00100 ∷ drive 8507 6 0x08100 ∷ drive 8512 1 0x00a00 ∷ drive 8515 6 0x00000 ∷ drive 8520 1 0x04a00 ∷ drive 8523 6 0x00100 ∷ drive 8581 6 0x08100 ∷ drive 8586 1 0x00a00 ∷ drive 8589 6 0x00000 ∷ drive 8594 1 0x04a00 ∷ drive 8597 6 0x00100 ∷ drive 8655 6 0x08100 ∷ drive 8660 1 0x00a00 ∷ drive 8663 6 0x00000 ∷ drive 8668 1 0x04a00 ∷ drive 8671 6 0x00100 ∷ drive 8729 6 0x08100 ∷ drive 8734 1 0x00a00 ∷ drive 8737 6 0x00000 ∷ drive 8742 1 0x04a00 ∷ drive 8745 6 0x00100 ∷ drive 8803 6 0x08100 ∷ drive 8808 1 0x00a00 ∷ drive 8811 6 0x00000 ∷ drive 8816 1 0x03a00 ∷ drive 9000 1 0x20000 ∷ drive 34005 1 0x00000 ∷ drive 35208 6 0x00240 ∷ drive 37611 6 0x00640 ∷ drive 38814 6 0x10742 ∷ drive 38907 6 0x10542 ∷ drive 39312 1 0x00200 ∷ drive 39405 6 0x10000 ∷ drive 39410 1 0x02a00 ∷ drive 39815 1 0x06a00 ∷ drive 39818 6 0x100c4 ∷ drive 39876 6 0x180c4 ∷ drive 39881 1 0x02a00 ∷ drive 39884 6 0x10000 ∷ drive 39889 1 0x06a00 ∷ drive 39892 6 0x10020 ∷ drive 39950 6 0x18020 ∷ drive 39955 1 0x02a00 ∷ drive 39958 6 0x10000 ∷ drive 39963 1 0x06a00 ∷ drive 39966 6 0x00103 ∷ drive 40059 6 0x08103 ∷ drive 40064 1 0x02a00 ∷ drive 40067 6 0x00000 ∷ drive 40072 1 0x03a00 ∷ drive 40877 1 0x03a01 ∷ drive 40937 1 0x07a01 ∷ drive 40940 6 0x08000 ∷ drive 40945 1 0x03b03 ∷ drive 40948 6 0x00000 ∷ drive 41005 1 0x07b03 ∷ drive 41008 6 0x08000 ∷ drive 41013 1 0x03a01 ∷ drive 41016 6 0x00000 ∷ drive 41073 1 0x07a01 ∷ drive 41076 6 0x08000 ∷ drive 41081 1 0x03b1e ∷ drive 41084 6 0x00000 ∷ drive 41141 1 0x07b1e ∷ drive 41144 6 0x08000 ∷ drive 41149 1 0x03a08 ∷ drive 41152 6 0x00000 ∷ drive 41209 1 0x07a08 ∷ drive 41212 6 0x18000 ∷ drive 41217 1 0x03a00 ∷ drive 41305 6 0x10000 ∷ drive 41310 1 0x02a00 ∷ drive 41715 1 0x06a00 ∷ drive 41718 6 0x10001 ∷ drive 41776 6 0x18001 ∷ drive 41781 1 0x02a00 ∷ drive 41784 6 0x10000 ∷ drive 41789 1 0x06a00 ∷ drive 41792 6 0x10103 ∷ drive 41850 6 0x18103 ∷ drive 41855 1 0x02a00 ∷ drive 41858 6 0x10000 ∷ drive 41863 1 0x06a00 ∷ drive 41866 6 0x10001 ∷ drive 41924 6 0x18001 ∷ drive 41929 1 0x02a00 ∷ drive 41932 6 0x10000 ∷ drive 41937 1 0x06a00 ∷ drive 41940 6 0x1011e ∷ drive 41998 6 0x1811e ∷ drive 42003 1 0x02a00 ∷ drive 42006 6 0x10000 ∷ drive 42011 1 0x06a00 ∷ drive 42014 6 0x00008 ∷ drive 42107 6 0x08008 ∷ drive 42112 1 0x02a00 ∷ drive 42115 6 0x00000 ∷ drive 42120 1 0x00a00 ∷ drive 42525 1 0x04a00 ∷ drive 42528 6 0x00008 ∷ drive 42586 6 0x08008 ∷ drive 42591 1 0x00a00 ∷ drive 42594 6 0x00000 ∷ drive 42599 1 0x04a00 ∷ drive 42602 6 0x00100 ∷ drive 42660 6 0x08100 ∷ drive 42665 1 0x00a00 ∷ drive 42668 6 0x00000 ∷ drive 42673 1 0x04a00 ∷ drive 42676 6 0x00100 ∷ drive 42734 6 0x08100 ∷ drive 42739 1 0x00a00 ∷ drive 42742 6 0x00000 ∷ drive 42747 1 0x04a00 ∷ drive 42750 6 0x00100 ∷ drive 42808 6 0x08100 ∷ drive 42813 1 0x00a00 ∷ drive 42816 6 0x00000 ∷ drive 42821 1 0x04a00 ∷ drive 42824 6 0x00002 ∷ drive 42882 6 0x08002 ∷ drive 42887 1 0x00a00 ∷ drive 42890 6 0x00000 ∷ drive 42895 1 0x04a00 ∷ drive 42898 6 0x00100 ∷ drive 42956 6 0x08100 ∷ drive 42961 1 0x00a00 ∷ drive 42964 6 0x00000 ∷ drive 42969 1 0x03a00 ∷ drive 43774 1 0x03a04 ∷ drive 43834 1 0x07a04 ∷ drive 43837 6 0x08000 ∷ drive 43842 1 0x03a00 ∷ drive 43845 6 0x00000 ∷ drive 43850 1 0x00000 ∷ drive 45053 6 0x00240 ∷ drive 45055 1 0x00202 ∷ drive 47456 6 0x00640 ∷ drive 47461 1 0x00000 ∷ drive 48659 6 0x10742 ∷ drive 48752 6 0x10542 ∷ drive 49157 1 0x00200 ∷ drive 49250 6 0x10000 ∷ drive 49255 1 0x02a00 ∷ drive 49660 1 0x06a00 ∷ drive 49663 6 0x100c4 ∷ drive 49721 6 0x180c4 ∷ drive 49726 1 0x02a00 ∷ drive 49729 6 0x10000 ∷ drive 49734 1 0x06a00 ∷ drive 49737 6 0x10020 ∷ drive 49795 6 0x18020 ∷ drive 49800 1 0x02a00 ∷ drive 49803 6 0x10000 ∷ drive 49808 1 0x06a00 ∷ drive 49811 6 0x00004 ∷ drive 49904 6 0x08004 ∷ drive 49909 1 0x02a00 ∷ drive 49912 6 0x00000 ∷ drive 49917 1 0x00a00 ∷ drive 50322 1 0x04a00 ∷ drive 50325 6 0x00008 ∷ drive 50383 6 0x08008 ∷ drive 50388 1 0x00a00 ∷ drive 50391 6 0x00000 ∷ drive 50396 1 0x04a00 ∷ drive 50399 6 0x00100 ∷ drive 50457 6 0x08100 ∷ drive 50462 1 0x00a00 ∷ drive 50465 6 0x00000 ∷ drive 50470 1 0x04a00 ∷ drive 50473 6 0x00100 ∷ drive 50531 6 0x08100 ∷ drive 50536 1 0x00a00 ∷ drive 50539 6 0x00000 ∷ drive 50544 1 0x04a00 ∷ drive 50547 6 0x00100 ∷ drive 50605 6 0x08100 ∷ drive 50610 1 0x00a00 ∷ drive 50613 6 0x00000 ∷ drive 50618 1 0x04a00 ∷ drive 50621 6 0x00002 ∷ drive 50679 6 0x08002 ∷ drive 50684 1 0x00a00 ∷ drive 50687 6 0x00000 ∷ drive 50692 1 0x04a00 ∷ drive 50695 6 0x00100 ∷ drive 50753 6 0x08100 ∷ drive 50758 1 0x00a00 ∷ drive 50761 6 0x00000 ∷ drive 50766 1 0x03a00 ∷ drive 51571 1 0x03a04 ∷ drive 51631 1 0x07a04 ∷ drive 51634 6 0x08000 ∷ drive 51639 1 0x03a00 ∷ drive 51642 6 0x00000 ∷ drive 51647 1 0x00000 ∷ drive 52852 1 0x00202 ∷ drive 55257 1 0x00602 ∷ drive 56462 1 0x01742 ∷ drive 56557 1 0x01542 ∷ drive 56960 6 0x00200 ∷ drive 56965 1 0x01742 ∷ drive 57060 1 0x03b84 ∷ drive 57063 6 0x00000 ∷ drive 57465 1 0x07b84 ∷ drive 57468 6 0x08000 ∷ drive 57473 1 0x03a20 ∷ drive 57476 6 0x00000 ∷ drive 57533 1 0x07a20 ∷ drive 57536 6 0x08000 ∷ drive 57541 1 0x03b03 ∷ drive 57544 6 0x00000 ∷ drive 57601 1 0x07b03 ∷ drive 57604 6 0x08000 ∷ drive 57609 1 0x03a00 ∷ drive 57612 6 0x00000 ∷ drive 57617 1 0x01a02 ∷ drive 58022 1 0x05a02 ∷ drive 58025 6 0x08000 ∷ drive 58030 1 0x01a00 ∷ drive 58033 6 0x00000 ∷ drive 58038 1 0x03b00 ∷ drive 58443 1 0x07b00 ∷ drive 58446 6 0x08000 ∷ drive 58451 1 0x03a00 ∷ drive 58454 6 0x00000 ∷ drive 58459 1 0x00000 ∷ drive 59662 6 0x00240 ∷ drive 62065 6 0x00640 ∷ drive 63268 6 0x10742 ∷ drive 63361 6 0x10542 ∷ drive 63766 1 0x00200 ∷ drive 63859 6 0x10000 ∷ drive 63864 1 0x02a00 ∷ drive 64269 1 0x06a00 ∷ drive 64272 6 0x00184 ∷ drive 64365 6 0x08184 ∷ drive 64370 1 0x02a00 ∷ drive 64373 6 0x00000 ∷ drive 64378 1 0x00a00 ∷ drive 64783 1 0x04a00 ∷ drive 64786 6 0x00103 ∷ drive 64844 6 0x08103 ∷ drive 64849 1 0x00a00 ∷ drive 64852 6 0x00000 ∷ drive 64857 1 0x04a00 ∷ drive 64860 6 0x00100 ∷ drive 64918 6 0x08100 ∷ drive 64923 1 0x00a00 ∷ drive 64926 6 0x00000 ∷ drive 64931 1 0x04a00 ∷ drive 64934 6 0x00100 ∷ drive 64992 6 0x08100 ∷ drive 64997 1 0x00a00 ∷ drive 65000 6 0x00000 ∷ drive 65005 1 0x04a00 ∷ drive 65008 6 0x00100 ∷ drive 65066 6 0x08100 ∷ drive 65071 1 0x00a00 ∷ drive 65074 6 0x00000 ∷ drive 65079 1 0x04a00 ∷ drive 65082 6 0x00112 ∷ drive 65140 6 0x08112 ∷ drive 65145 1 0x00a00 ∷ drive 65148 6 0x00000 ∷ drive 65153 1 0x04a00 ∷ drive 65156 6 0x00100 ∷ drive 65214 6 0x08100 ∷ drive 65219 1 0x00a00 ∷ drive 65222 6 0x00000 ∷ drive 65227 1 0x01200 ∷ drive 66032 1 0x01270 ∷ drive 66092 1 0x05270 ∷ drive 66127 1 0x01270 ∷ drive 66132 1 0x01300 ∷ drive 66135 6 0x08000 ∷ drive 66168 6 0x00000 ∷ drive 66217 1 0x05300 ∷ drive 66252 1 0x01300 ∷ drive 66257 1 0x01306 ∷ drive 66260 6 0x08000 ∷ drive 66293 6 0x00000 ∷ drive 66342 1 0x05306 ∷ drive 66377 1 0x01306 ∷ drive 66382 1 0x01300 ∷ drive 66385 6 0x08000 ∷ drive 66418 6 0x00000 ∷ drive 66467 1 0x05300 ∷ drive 66502 1 0x01300 ∷ drive 66510 6 0x08000 ∷ drive 66543 6 0x00000 ∷ drive 66592 1 0x05300 ∷ drive 66627 1 0x01300 ∷ drive 66635 6 0x08000 ∷ drive 66668 6 0x00000 ∷ drive 66717 1 0x05300 ∷ drive 66752 1 0x01300 ∷ drive 66760 6 0x08000 ∷ drive 66793 6 0x00000 ∷ drive 66842 1 0x05300 ∷ drive 66877 1 0x01300 ∷ drive 66882 1 0x0130a ∷ drive 66885 6 0x08000 ∷ drive 66918 6 0x00000 ∷ drive 66967 1 0x0530a ∷ drive 67002 1 0x0130a ∷ drive 67007 1 0x01300 ∷ drive 67010 6 0x08000 ∷ drive 67043 6 0x00000 ∷ drive 67092 1 0x05300 ∷ drive 67127 1 0x01300 ∷ drive 67135 6 0x08000 ∷ drive 67168 6 0x00000 ∷ drive 67217 1 0x05300 ∷ drive 67252 1 0x01300 ∷ drive 67260 6 0x08000 ∷ drive 67293 6 0x00000 ∷ drive 67342 1 0x05300 ∷ drive 67377 1 0x01300 ∷ drive 67385 6 0x08000 ∷ drive 67418 6 0x00000 ∷ drive 67467 1 0x05300 ∷ drive 67502 1 0x01300 ∷ drive 67507 1 0x01229 ∷ drive 67510 6 0x08000 ∷ drive 67543 6 0x00000 ∷ drive 67592 1 0x05229 ∷ drive 67627 1 0x01229 ∷ drive 67632 1 0x01300 ∷ drive 67635 6 0x08000 ∷ drive 67668 6 0x00000 ∷ drive 67717 1 0x05300 ∷ drive 67752 1 0x01300 ∷ drive 67760 6 0x08000 ∷ drive 67793 6 0x00000 ∷ drive 67842 1 0x05300 ∷ drive 67877 1 0x01300 ∷ drive 67885 6 0x08000 ∷ drive 67918 6 0x00000 ∷ drive 67967 1 0x05300 ∷ drive 68002 1 0x01300 ∷ drive 68010 6 0x08000 ∷ drive 68043 6 0x00000 ∷ drive 68092 1 0x05300 ∷ drive 68127 1 0x01300 ∷ drive 68135 6 0x08000 ∷ drive 68168 6 0x00000 ∷ drive 68217 1 0x05300 ∷ drive 68252 1 0x01300 ∷ drive 68257 1 0x01200 ∷ drive 68260 6 0x08000 ∷ drive 68293 6 0x00000 ∷ drive 68298 1 0x01b00 ∷ drive 68703 1 0x05b00 ∷ drive 68706 6 0x08000 ∷ drive 68711 1 0x01a00 ∷ drive 68714 6 0x00000 ∷ drive 68719 1 0x03b00 ∷ drive 69124 1 0x07b00 ∷ drive 69127 6 0x08000 ∷ drive 69132 1 0x03a00 ∷ drive 69135 6 0x00000 ∷ drive 69140 1 0x00000 ∷ drive 70345 1 0x00202 ∷ drive 72750 1 0x00602 ∷ drive 73955 1 0x01742 ∷ drive 74050 1 0x01542 ∷ drive 74453 6 0x00200 ∷ drive 74458 1 0x01742 ∷ drive 74553 1 0x03b84 ∷ drive 74556 6 0x00000 ∷ drive 74958 1 0x07b84 ∷ drive 74961 6 0x08000 ∷ drive 74966 1 0x03a20 ∷ drive 74969 6 0x00000 ∷ drive 75026 1 0x07a20 ∷ drive 75029 6 0x08000 ∷ drive 75034 1 0x03a04 ∷ drive 75037 6 0x00000 ∷ drive 75094 1 0x07a04 ∷ drive 75097 6 0x08000 ∷ drive 75102 1 0x03a00 ∷ drive 75105 6 0x00000 ∷ drive 75110 1 0x01300 ∷ drive 75515 1 0x05300 ∷ drive 75550 1 0x01300 ∷ drive 75558 6 0x08000 ∷ drive 75591 6 0x00000 ∷ drive 75640 1 0x05300 ∷ drive 75675 1 0x01300 ∷ drive 75683 6 0x08000 ∷ drive 75716 6 0x00000 ∷ drive 75765 1 0x05300 ∷ drive 75800 1 0x01300 ∷ drive 75808 6 0x08000 ∷ drive 75841 6 0x00000 ∷ drive 75890 1 0x05300 ∷ drive 75925 1 0x01300 ∷ drive 75933 6 0x08000 ∷ drive 75966 6 0x00000 ∷ drive 76015 1 0x05300 ∷ drive 76050 1 0x01300 ∷ drive 76058 6 0x08000 ∷ drive 76091 6 0x00000 ∷ drive 76140 1 0x05300 ∷ drive 76175 1 0x01300 ∷ drive 76183 6 0x08000 ∷ drive 76216 6 0x00000 ∷ drive 76265 1 0x05300 ∷ drive 76300 1 0x01300 ∷ drive 76308 6 0x08000 ∷ drive 76341 6 0x00000 ∷ drive 76390 1 0x05300 ∷ drive 76425 1 0x01300 ∷ drive 76433 6 0x08000 ∷ drive 76466 6 0x00000 ∷ drive 76515 1 0x05300 ∷ drive 76550 1 0x01300 ∷ drive 76558 6 0x08000 ∷ drive 76591 6 0x00000 ∷ drive 76640 1 0x05300 ∷ strike 76640 6 3 ∷ drive 76675 1 0x01300 ∷ drive 76683 6 0x18000 ∷ drive 76765 1 0x05300 ∷ drive 76776 6 0x10000 ∷ drive 76800 1 0x01300 ∷ drive 76809 6 0x18000 ∷ drive 76842 6 0x10000 ∷ drive 76890 1 0x05300 ∷ drive 76925 1 0x01300 ∷ drive 76933 6 0x18000 ∷ drive 76966 6 0x10000 ∷ drive 77015 1 0x05300 ∷ drive 77050 1 0x01300 ∷ drive 77058 6 0x18000 ∷ drive 77091 6 0x10000 ∷ drive 77140 1 0x05300 ∷ drive 77175 1 0x01300 ∷ drive 77183 6 0x18000 ∷ drive 77216 6 0x10000 ∷ drive 77265 1 0x05300 ∷ drive 77300 1 0x01300 ∷ drive 77308 6 0x18000 ∷ drive 77341 6 0x10000 ∷ drive 77390 1 0x05300 ∷ drive 77425 1 0x01300 ∷ drive 77430 1 0x01200 ∷ drive 77433 6 0x18000 ∷ drive 77466 6 0x10000 ∷ drive 77471 1 0x02a00 ∷ drive 77876 1 0x06a00 ∷ drive 77879 6 0x00105 ∷ drive 77972 6 0x08105 ∷ drive 77977 1 0x02a00 ∷ drive 77980 6 0x00000 ∷ drive 77985 1 0x03a00 ∷ drive 78790 1 0x03b03 ∷ drive 78850 1 0x07b03 ∷ drive 78853 6 0x08000 ∷ drive 78858 1 0x03a00 ∷ drive 78861 6 0x00000 ∷ drive 78866 1 0x01300 ∷ drive 79271 1 0x05300 ∷ drive 79306 1 0x01300 ∷ drive 79314 6 0x08000 ∷ drive 79347 6 0x00000 ∷ drive 79396 1 0x05300 ∷ drive 79431 1 0x01300 ∷ drive 79439 6 0x08000 ∷ drive 79472 6 0x00000 ∷ drive 79521 1 0x05300 ∷ drive 79556 1 0x01300 ∷ drive 79564 6 0x08000 ∷ drive 79597 6 0x00000 ∷ drive 79646 1 0x05300 ∷ drive 79681 1 0x01300 ∷ drive 79689 6 0x08000 ∷ drive 79722 6 0x00000 ∷ drive 79771 1 0x05300 ∷ drive 79806 1 0x01300 ∷ drive 79814 6 0x08000 ∷ drive 79847 6 0x00000 ∷ drive 79896 1 0x05300 ∷ drive 79931 1 0x01300 ∷ drive 79939 6 0x08000 ∷ drive 79972 6 0x00000 ∷ drive 80021 1 0x05300 ∷ drive 80056 1 0x01300 ∷ drive 80064 6 0x08000 ∷ drive 80097 6 0x00000 ∷ drive 80146 1 0x05300 ∷ drive 80181 1 0x01300 ∷ drive 80189 6 0x08000 ∷ drive 80222 6 0x00000 ∷ drive 80271 1 0x05300 ∷ drive 80306 1 0x01300 ∷ drive 80314 6 0x08000 ∷ drive 80347 6 0x00000 ∷ drive 80396 1 0x05300 ∷ drive 80431 1 0x01300 ∷ drive 80439 6 0x08000 ∷ drive 80472 6 0x00000 ∷ drive 80521 1 0x05300 ∷ drive 80556 1 0x01300 ∷ drive 80564 6 0x08000 ∷ drive 80597 6 0x00000 ∷ drive 80646 1 0x05300 ∷ drive 80681 1 0x01300 ∷ drive 80689 6 0x08000 ∷ drive 80722 6 0x00000 ∷ drive 80771 1 0x05300 ∷ drive 80806 1 0x01300 ∷ drive 80814 6 0x08000 ∷ drive 80847 6 0x00000 ∷ drive 80896 1 0x05300 ∷ drive 80931 1 0x01300 ∷ drive 80939 6 0x08000 ∷ drive 80972 6 0x00000 ∷ drive 81021 1 0x05300 ∷ drive 81056 1 0x01300 ∷ drive 81064 6 0x08000 ∷ drive 81097 6 0x00000 ∷ drive 81146 1 0x05300 ∷ drive 81181 1 0x01300 ∷ drive 81186 1 0x01200 ∷ drive 81189 6 0x08000 ∷ drive 81222 6 0x00000 ∷ drive 81227 1 0x03a02 ∷ drive 81632 1 0x07a02 ∷ drive 81635 6 0x08000 ∷ drive 81640 1 0x03a04 ∷ drive 81643 6 0x00000 ∷ drive 81700 1 0x07a04 ∷ drive 81703 6 0x08000 ∷ drive 81708 1 0x03a00 ∷ drive 81711 6 0x00000 ∷ drive 81716 1 0x00000 ∷ drive 82921 1 0x00202 ∷ drive 85326 1 0x00602 ∷ drive 86531 1 0x01742 ∷ drive 86626 1 0x01542 ∷ drive 87029 6 0x00200 ∷ drive 87034 1 0x01742 ∷ drive 87129 1 0x03b84 ∷ drive 87132 6 0x00000 ∷ drive 87534 1 0x07b84 ∷ drive 87537 6 0x08000 ∷ drive 87542 1 0x03a20 ∷ drive 87545 6 0x00000 ∷ drive 87602 1 0x07a20 ∷ drive 87605 6 0x08000 ∷ drive 87610 1 0x03a04 ∷ drive 87613 6 0x00000 ∷ drive 87670 1 0x07a04 ∷ drive 87673 6 0x08000 ∷ drive 87678 1 0x03a00 ∷ drive 87681 6 0x00000 ∷ drive 87686 1 0x013ff ∷ drive 88091 1 0x053ff ∷ drive 88126 1 0x013ff ∷ drive 88131 1 0x01300 ∷ drive 88134 6 0x08000 ∷ drive 88167 6 0x00000 ∷ drive 88216 1 0x05300 ∷ drive 88251 1 0x01300 ∷ drive 88259 6 0x08000 ∷ drive 88292 6 0x00000 ∷ drive 88341 1 0x05300 ∷ drive 88376 1 0x01300 ∷ drive 88384 6 0x08000 ∷ drive 88417 6 0x00000 ∷ drive 88466 1 0x05300 ∷ drive 88501 1 0x01300 ∷ drive 88506 1 0x013ff ∷ drive 88509 6 0x08000 ∷ drive 88542 6 0x00000 ∷ drive 88591 1 0x053ff ∷ drive 88626 1 0x013ff ∷ drive 88631 1 0x01300 ∷ drive 88634 6 0x08000 ∷ drive 88667 6 0x00000 ∷ drive 88716 1 0x05300 ∷ drive 88751 1 0x01300 ∷ drive 88759 6 0x08000 ∷ drive 88792 6 0x00000 ∷ drive 88841 1 0x05300 ∷ drive 88876 1 0x01300 ∷ drive 88884 6 0x08000 ∷ drive 88917 6 0x00000 ∷ drive 88966 1 0x05300 ∷ drive 89001 1 0x01300 ∷ drive 89006 1 0x013ff ∷ drive 89009 6 0x08000 ∷ drive 89042 6 0x00000 ∷ drive 89091 1 0x053ff ∷ drive 89126 1 0x013ff ∷ drive 89131 1 0x01300 ∷ drive 89134 6 0x08000 ∷ drive 89167 6 0x00000 ∷ drive 89216 1 0x05300 ∷ drive 89251 1 0x01300 ∷ drive 89259 6 0x08000 ∷ drive 89292 6 0x00000 ∷ drive 89341 1 0x05300 ∷ drive 89376 1 0x01300 ∷ drive 89384 6 0x08000 ∷ drive 89417 6 0x00000 ∷ drive 89466 1 0x05300 ∷ drive 89501 1 0x01300 ∷ drive 89506 1 0x013ff ∷ drive 89509 6 0x08000 ∷ drive 89542 6 0x00000 ∷ drive 89591 1 0x053ff ∷ drive 89626 1 0x013ff ∷ drive 89631 1 0x01300 ∷ drive 89634 6 0x08000 ∷ drive 89667 6 0x00000 ∷ drive 89716 1 0x05300 ∷ drive 89751 1 0x01300 ∷ drive 89759 6 0x08000 ∷ drive 89792 6 0x00000 ∷ drive 89841 1 0x05300 ∷ drive 89876 1 0x01300 ∷ drive 89884 6 0x08000 ∷ drive 89917 6 0x00000 ∷ drive 89966 1 0x05300 ∷ drive 90001 1 0x01300 ∷ drive 90006 1 0x01200 ∷ drive 90009 6 0x08000 ∷ drive 90042 6 0x00000 ∷ drive 90047 1 0x01b00 ∷ drive 90452 1 0x05b00 ∷ drive 90455 6 0x08000 ∷ drive 90460 1 0x01a00 ∷ drive 90463 6 0x00000 ∷ drive 90468 1 0x03b00 ∷ drive 90873 1 0x07b00 ∷ drive 90876 6 0x08000 ∷ drive 90881 1 0x03a00 ∷ drive 90884 6 0x00000 ∷ drive 90889 1 0x00000 ∷ []

text_two_initiator_6 : (side true ends.Initiator (record { period = 25; offset = 8 }) (turns (reverse text_two) 6 1)).nego ≡ record { own = record { period = 25; offset = 8 }; agreed = record { period = 30; offset = 8 }; may_offer = false }
unfolding ones union_below form_out form_in
text_two_initiator_6 = refl

text_two_target_1 : (side true ends.Target (record { period = 30; offset = 8 }) (turns (reverse text_two) 6 1)).nego ≡ record { own = record { period = 30; offset = 8 }; agreed = record { period = 30; offset = 8 }; may_offer = false }
unfolding ones union_below form_out form_in
text_two_target_1 = refl

-- ---- due_cases/device_reset_by_message

abbrev device_reset_by_message : List Row
device_reset_by_message = drive 1200 7 0x00280 ∷ drive 3600 7 0x00680 ∷ drive 4800 7 0x10781 ∷ drive 4890 7 0x10581 ∷ drive 5340 0 0x00200 ∷ drive 5430 7 0x10000 ∷ drive 5480 0 0x02a00 ∷ drive 5930 0 0x06a00 ∷ drive 5930 7 0x100c1 ∷ drive 5985 7 0x180c1 ∷ drive 6035 0 0x02a00 ∷ drive 6035 7 0x10000 ∷ drive 6085 0 0x06a00 ∷ drive 6085 7 0x10001 ∷ drive 6140 7 0x18001 ∷ drive 6190 0 0x02a00 ∷ drive 6190 7 0x10000 ∷ drive 6240 0 0x06a00 ∷ drive 6240 7 0x10103 ∷ drive 6295 7 0x18103 ∷ drive 6345 0 0x02a00 ∷ drive 6345 7 0x10000 ∷ drive 6395 0 0x06a00 ∷ drive 6395 7 0x10001 ∷ drive 6450 7 0x18001 ∷ drive 6500 0 0x02a00 ∷ drive 6500 7 0x10000 ∷ drive 6550 0 0x06a00 ∷ drive 6550 7 0x10032 ∷ drive 6605 7 0x18032 ∷ drive 6655 0 0x02a00 ∷ drive 6655 7 0x10000 ∷ drive 6705 0 0x06a00 ∷ drive 6705 7 0x00002 ∷ drive 6795 7 0x08002 ∷ drive 6845 0 0x02a00 ∷ drive 6845 7 0x00000 ∷ drive 6895 0 0x03a00 ∷ drive 7745 0 0x03a01 ∷ drive 7850 0 0x07a01 ∷ drive 7850 7 0x08000 ∷ drive 7900 0 0x03b03 ∷ drive 7900 7 0x00000 ∷ drive 8005 0 0x07b03 ∷ drive 8005 7 0x08000 ∷ drive 8055 0 0x03a01 ∷ drive 8055 7 0x00000 ∷ drive 8160 0 0x07a01 ∷ drive 8160 7 0x08000 ∷ drive 8210 0 0x03a32 ∷ drive 8210 7 0x00000 ∷ drive 8315 0 0x07a32 ∷ drive 8315 7 0x08000 ∷ drive 8365 0 0x03a02 ∷ drive 8365 7 0x00000 ∷ drive 8470 0 0x07a02 ∷ drive 8470 7 0x08000 ∷ drive 8520 0 0x03a00 ∷ drive 8520 7 0x00000 ∷ drive 8570 0 0x00a00 ∷ drive 9020 0 0x04a00 ∷ drive 9020 7 0x00100 ∷ drive 9075 7 0x08100 ∷ drive 9125 0 0x00a00 ∷ drive 9125 7 0x00000 ∷ drive 9175 0 0x04a00 ∷ drive 9175 7 0x00100 ∷ drive 9230 7 0x08100 ∷ drive 9280 0 0x00a00 ∷ drive 9280 7 0x00000 ∷ drive 9330 0 0x04a00 ∷ drive 9330 7 0x00100 ∷ drive 9385 7 0x08100 ∷ drive 9435 0 0x00a00 ∷ drive 9435 7 0x00000 ∷ drive 9485 0 0x04a00 ∷ drive 9485 7 0x00100 ∷ drive 9540 7 0x08100 ∷ drive 9590 0 0x00a00 ∷ drive 9590 7 0x00000 ∷ drive 9640 0 0x04a00 ∷ drive 9640 7 0x00100 ∷ drive 9695 7 0x08100 ∷ drive 9745 0 0x00a00 ∷ drive 9745 7 0x00000 ∷ drive 9795 0 0x04a00 ∷ drive 9795 7 0x00100 ∷ drive 9850 7 0x08100 ∷ drive 9900 0 0x00a00 ∷ drive 9900 7 0x00000 ∷ drive 9950 0 0x03a00 ∷ drive 10800 0 0x03a04 ∷ drive 10905 0 0x07a04 ∷ drive 10905 7 0x08000 ∷ drive 10955 0 0x03a00 ∷ drive 10955 7 0x00000 ∷ drive 11005 0 0x00000 ∷ drive 15000 7 0x00280 ∷ drive 17400 7 0x00680 ∷ drive 18600 7 0x10781 ∷ drive 18690 7 0x10581 ∷ drive 19140 0 0x00200 ∷ drive 19230 7 0x10000 ∷ drive 19280 0 0x02a00 ∷ drive 19730 0 0x06a00 ∷ drive 19730 7 0x10181 ∷ drive 19785 7 0x18181 ∷ drive 19835 0 0x02a00 ∷ drive 19835 7 0x10000 ∷ drive 19885 0 0x06a00 ∷ drive 19885 7 0x0010c ∷ drive 19975 7 0x0810c ∷ drive 20025 0 0x02a00 ∷ drive 20025 7 0x00000 ∷ drive 20075 0 0x00000 ∷ drive 30000 7 0x00280 ∷ drive 32400 7 0x00680 ∷ drive 33600 7 0x10781 ∷ drive 33690 7 0x10581 ∷ drive 34140 0 0x00200 ∷ drive 34230 7 0x10000 ∷ drive 34280 0 0x02a00 ∷ drive 34730 0 0x06a00 ∷ drive 34730 7 0x100c1 ∷ drive 34785 7 0x180c1 ∷ drive 34835 0 0x02a00 ∷ drive 34835 7 0x10000 ∷ drive 34885 0 0x06a00 ∷ drive 34885 7 0x10001 ∷ drive 34940 7 0x18001 ∷ drive 34990 0 0x02a00 ∷ drive 34990 7 0x10000 ∷ drive 35040 0 0x06a00 ∷ drive 35040 7 0x10103 ∷ drive 35095 7 0x18103 ∷ drive 35145 0 0x02a00 ∷ drive 35145 7 0x10000 ∷ drive 35195 0 0x06a00 ∷ drive 35195 7 0x10001 ∷ drive 35250 7 0x18001 ∷ drive 35300 0 0x02a00 ∷ drive 35300 7 0x10000 ∷ drive 35350 0 0x06a00 ∷ drive 35350 7 0x10032 ∷ drive 35405 7 0x18032 ∷ drive 35455 0 0x02a00 ∷ drive 35455 7 0x10000 ∷ drive 35505 0 0x06a00 ∷ drive 35505 7 0x00002 ∷ drive 35595 7 0x08002 ∷ drive 35645 0 0x02a00 ∷ drive 35645 7 0x00000 ∷ drive 35695 0 0x03a00 ∷ drive 36545 0 0x03a01 ∷ drive 36650 0 0x07a01 ∷ drive 36650 7 0x08000 ∷ drive 36700 0 0x03b03 ∷ drive 36700 7 0x00000 ∷ drive 36805 0 0x07b03 ∷ drive 36805 7 0x08000 ∷ drive 36855 0 0x03a01 ∷ drive 36855 7 0x00000 ∷ drive 36960 0 0x07a01 ∷ drive 36960 7 0x08000 ∷ drive 37010 0 0x03a32 ∷ drive 37010 7 0x00000 ∷ drive 37115 0 0x07a32 ∷ drive 37115 7 0x08000 ∷ drive 37165 0 0x03a02 ∷ drive 37165 7 0x00000 ∷ drive 37270 0 0x07a02 ∷ drive 37270 7 0x08000 ∷ drive 37320 0 0x03a00 ∷ drive 37320 7 0x00000 ∷ drive 37370 0 0x00a00 ∷ drive 37820 0 0x04a00 ∷ drive 37820 7 0x00112 ∷ drive 37875 7 0x08112 ∷ drive 37925 0 0x00a00 ∷ drive 37925 7 0x00000 ∷ drive 37975 0 0x04a00 ∷ drive 37975 7 0x00100 ∷ drive 38030 7 0x08100 ∷ drive 38080 0 0x00a00 ∷ drive 38080 7 0x00000 ∷ drive 38130 0 0x04a00 ∷ drive 38130 7 0x00100 ∷ drive 38185 7 0x08100 ∷ drive 38235 0 0x00a00 ∷ drive 38235 7 0x00000 ∷ drive 38285 0 0x04a00 ∷ drive 38285 7 0x00100 ∷ drive 38340 7 0x08100 ∷ drive 38390 0 0x00a00 ∷ drive 38390 7 0x00000 ∷ drive 38440 0 0x04a00 ∷ drive 38440 7 0x00105 ∷ drive 38495 7 0x08105 ∷ drive 38545 0 0x00a00 ∷ drive 38545 7 0x00000 ∷ drive 38595 0 0x04a00 ∷ drive 38595 7 0x00100 ∷ drive 38650 7 0x08100 ∷ drive 38700 0 0x00a00 ∷ drive 38700 7 0x00000 ∷ drive 38750 0 0x03a00 ∷ drive 39600 0 0x03a04 ∷ drive 39705 0 0x07a04 ∷ drive 39705 7 0x08000 ∷ drive 39755 0 0x03a00 ∷ drive 39755 7 0x00000 ∷ drive 39805 0 0x00000 ∷ drive 108800 0 0x00201 ∷ drive 111250 0 0x00601 ∷ drive 112500 0 0x01781 ∷ drive 112640 0 0x01581 ∷ drive 113040 7 0x00200 ∷ drive 113090 0 0x01781 ∷ drive 113230 0 0x03b81 ∷ drive 113230 7 0x00000 ∷ drive 113680 0 0x07b81 ∷ drive 113680 7 0x08000 ∷ drive 113730 0 0x03a00 ∷ drive 113730 7 0x00000 ∷ drive 113780 0 0x01300 ∷ drive 114230 0 0x05300 ∷ drive 114230 7 0x08000 ∷ drive 114320 7 0x00000 ∷ drive 114370 0 0x01300 ∷ drive 114510 0 0x05300 ∷ drive 114510 7 0x08000 ∷ drive 114600 7 0x00000 ∷ drive 114650 0 0x01300 ∷ drive 114660 0 0x01202 ∷ drive 114790 0 0x05202 ∷ drive 114790 7 0x08000 ∷ drive 114880 7 0x00000 ∷ drive 114930 0 0x01202 ∷ drive 115070 0 0x05202 ∷ drive 115070 7 0x08000 ∷ drive 115160 7 0x00000 ∷ drive 115210 0 0x01202 ∷ drive 115220 0 0x0121f ∷ drive 115350 0 0x0521f ∷ drive 115350 7 0x08000 ∷ drive 115440 7 0x00000 ∷ drive 115490 0 0x0121f ∷ drive 115500 0 0x01200 ∷ drive 115500 0 0x01b00 ∷ drive 115950 0 0x05b00 ∷ drive 115950 7 0x08000 ∷ drive 116000 0 0x01a00 ∷ drive 116000 7 0x00000 ∷ drive 116050 0 0x03b00 ∷ drive 116500 0 0x07b00 ∷ drive 116500 7 0x08000 ∷ drive 116550 0 0x03a00 ∷ drive 116550 7 0x00000 ∷ drive 116600 0 0x00000 ∷ []

device_reset_by_message_initiator_7 : (side true ends.Initiator (record { period = 50; offset = 2 }) (turns (reverse device_reset_by_message) 7 0)).nego ≡ record { own = record { period = 50; offset = 2 }; agreed = record { period = 50; offset = 2 }; may_offer = false }
unfolding ones union_below form_out form_in
device_reset_by_message_initiator_7 = refl

device_reset_by_message_target_0 : (side true ends.Target (record { period = 40; offset = 8 }) (turns (reverse device_reset_by_message) 7 0)).nego ≡ record { own = record { period = 40; offset = 8 }; agreed = record { period = 50; offset = 2 }; may_offer = false }
unfolding ones union_below form_out form_in
device_reset_by_message_target_0 = refl

-- ---- due_cases/opening_given_up

abbrev opening_given_up : List Row
opening_given_up = drive 1245 6 0x00240 ∷ drive 3690 6 0x00640 ∷ drive 4935 6 0x10742 ∷ drive 5070 6 0x10542 ∷ drive 5475 1 0x00200 ∷ drive 5610 6 0x10000 ∷ drive 5615 1 0x02a00 ∷ drive 6020 1 0x06a00 ∷ drive 6065 6 0x101c0 ∷ drive 6165 6 0x181c0 ∷ drive 6170 1 0x02a00 ∷ drive 6215 6 0x10000 ∷ drive 6220 1 0x06a00 ∷ drive 6265 6 0x10001 ∷ drive 6365 6 0x18001 ∷ drive 6370 1 0x02a00 ∷ drive 6415 6 0x10000 ∷ drive 6420 1 0x06a00 ∷ drive 6465 6 0x10103 ∷ drive 6565 6 0x18103 ∷ strike 6565 1 0 ∷ drive 6570 1 0x02a00 ∷ drive 6615 6 0x10000 ∷ drive 6620 1 0x06a00 ∷ drive 6665 6 0x10001 ∷ drive 6765 6 0x18001 ∷ drive 6770 1 0x02a00 ∷ drive 6815 6 0x10000 ∷ drive 6820 1 0x06a00 ∷ drive 6865 6 0x10032 ∷ drive 6965 6 0x18032 ∷ drive 6970 1 0x02a00 ∷ drive 7015 6 0x10000 ∷ drive 7020 1 0x06a00 ∷ drive 7065 6 0x00008 ∷ drive 7200 6 0x08008 ∷ drive 7205 1 0x02a00 ∷ drive 7250 6 0x00000 ∷ drive 7255 1 0x06a00 ∷ drive 7300 6 0x101c0 ∷ drive 7435 6 0x181c0 ∷ drive 7440 1 0x02a00 ∷ drive 7485 6 0x10000 ∷ drive 7490 1 0x06a00 ∷ drive 7535 6 0x10001 ∷ drive 7635 6 0x18001 ∷ drive 7640 1 0x02a00 ∷ drive 7685 6 0x10000 ∷ drive 7690 1 0x06a00 ∷ drive 7735 6 0x10103 ∷ drive 7835 6 0x18103 ∷ drive 7840 1 0x02a00 ∷ drive 7885 6 0x10000 ∷ drive 7890 1 0x06a00 ∷ drive 7935 6 0x10001 ∷ drive 8035 6 0x18001 ∷ drive 8040 1 0x02a00 ∷ drive 8085 6 0x10000 ∷ drive 8090 1 0x06a00 ∷ drive 8135 6 0x10032 ∷ drive 8235 6 0x18032 ∷ drive 8240 1 0x02a00 ∷ drive 8285 6 0x10000 ∷ drive 8290 1 0x06a00 ∷ drive 8335 6 0x00008 ∷ drive 8470 6 0x08008 ∷ drive 8475 1 0x02a00 ∷ drive 8520 6 0x00000 ∷ drive 8525 1 0x03a00 ∷ drive 9330 1 0x03a01 ∷ drive 9390 1 0x07a01 ∷ drive 9435 6 0x08000 ∷ drive 9440 1 0x03b03 ∷ drive 9485 6 0x00000 ∷ drive 9500 1 0x07b03 ∷ drive 9545 6 0x08000 ∷ drive 9550 1 0x03a01 ∷ drive 9595 6 0x00000 ∷ drive 9610 1 0x07a01 ∷ drive 9655 6 0x08000 ∷ drive 9660 1 0x03a32 ∷ drive 9705 6 0x00000 ∷ drive 9720 1 0x07a32 ∷ strike 9720 6 0 ∷ drive 9765 6 0x18000 ∷ drive 9770 1 0x03a00 ∷ drive 9900 6 0x10000 ∷ drive 9905 1 0x02a00 ∷ drive 10310 1 0x06a00 ∷ drive 10355 6 0x00109 ∷ drive 10490 6 0x08109 ∷ drive 10495 1 0x02a00 ∷ drive 10540 6 0x00000 ∷ drive 10545 1 0x03a00 ∷ drive 11350 1 0x03a01 ∷ drive 11410 1 0x07a01 ∷ drive 11455 6 0x08000 ∷ drive 11460 1 0x03b03 ∷ drive 11505 6 0x00000 ∷ drive 11520 1 0x07b03 ∷ drive 11565 6 0x08000 ∷ drive 11570 1 0x03a01 ∷ drive 11615 6 0x00000 ∷ drive 11630 1 0x07a01 ∷ drive 11675 6 0x08000 ∷ drive 11680 1 0x03a32 ∷ drive 11725 6 0x00000 ∷ drive 11740 1 0x07a32 ∷ strike 11740 6 0 ∷ drive 11785 6 0x18000 ∷ drive 11790 1 0x03a00 ∷ drive 11920 6 0x10000 ∷ drive 11925 1 0x02a00 ∷ drive 12330 1 0x06a00 ∷ drive 12375 6 0x00109 ∷ drive 12510 6 0x08109 ∷ drive 12515 1 0x02a00 ∷ drive 12560 6 0x00000 ∷ drive 12565 1 0x00000 ∷ []

opening_given_up_initiator_6 : (side false ends.Initiator (record { period = 50; offset = 8 }) (turns (reverse opening_given_up) 6 1)).nego ≡ record { own = record { period = 50; offset = 8 }; agreed = record { period = 0; offset = 0 }; may_offer = true }
unfolding ones union_below form_out form_in
opening_given_up_initiator_6 = refl

opening_given_up_target_1 : (side false ends.Target (record { period = 50; offset = 8 }) (turns (reverse opening_given_up) 6 1)).nego ≡ record { own = record { period = 50; offset = 8 }; agreed = record { period = 0; offset = 0 }; may_offer = true }
unfolding ones union_below form_out form_in
opening_given_up_target_1 = refl
