-- Traces and their transcripts, computed; an independent program printed them. Written by tools/makers/transcript_case.py.
use Rattle.std.proofs.Common.{ℕ, ◌≡◌, true, false, List, [], ◌∷◌, ◌++◌, reverse, refl}
use Rattle.std.specs.Prelude.{Option, Some, None, codes}
use Rattle.std.specs.Fmt.{digits}
use lib.Count.{ones}
use Rattle.bus_base.specs.declared.AbortKind.TheVariants as aborts
use Rattle.bus_trace.specs.LineSet.{set_of, line_of}
use Rattle.bus_trace.specs.View.{union_below}
use Rattle.bus_trace.specs.declared.Row.{Row}
use Rattle.bus_trace.specs.declared.Kind.TheVariants.{Drives, Fault}
use Rattle.msg_grammar.specs.declared.message.MsgOut.TheVariants as to_target
use Rattle.msg_grammar.specs.declared.message.MsgIn.TheVariants as to_initiator
use Rattle.msg_grammar.specs.Messages.{form_out, form_in}
use Rattle.bus_transcript.specs.declared.item.Name.{Name}
use Rattle.bus_transcript.specs.declared.item.Item.{Item}
use Rattle.bus_transcript.specs.declared.item.Item.TheVariants as items
use Rattle.bus_transcript.specs.Rows.{by_change, closed_by, transcript_of}
use Rattle.bus_transcript.specs.Text.{transcript_text}

abbrev drive : ℕ → ℕ → ℕ → Row
drive time dev lines = record { time = time; dev = dev; kind = Drives (set_of lines) }

abbrev strike : ℕ → ℕ → ℕ → Row
strike time dev bit = record { time = time; dev = dev; kind = Fault bit }

abbrev process : ℕ → ℕ → Option ℕ → Option ℕ → ℕ → Name
process initiator target unit tag number =
    record { initiator = initiator; target = target; unit = unit; tag = tag; number = number }

abbrev pub abort_and_loss_rows : List Row
abort_and_loss_rows = drive 83391 6 0x00240 ∷ drive 85891 6 0x00640 ∷ drive 87191 6 0x10760 ∷ drive 87381 6 0x10560 ∷ drive 87781 5 0x00200 ∷ drive 87971 6 0x10000 ∷ drive 87971 5 0x02a00 ∷ drive 88371 5 0x06a00 ∷ drive 88471 6 0x000c2 ∷ drive 88661 6 0x080c2 ∷ drive 88661 5 0x02a00 ∷ drive 88761 6 0x00000 ∷ drive 88761 5 0x00a00 ∷ drive 89161 5 0x04a00 ∷ drive 89261 6 0x00025 ∷ drive 89416 6 0x08025 ∷ strike 89416 5 7 ∷ drive 89416 5 0x00a00 ∷ drive 89516 6 0x00000 ∷ drive 89516 5 0x01a00 ∷ drive 90316 5 0x01a02 ∷ drive 90371 5 0x05a02 ∷ strike 90371 6 7 ∷ drive 90471 6 0x18000 ∷ drive 90471 5 0x01a00 ∷ drive 90661 6 0x10000 ∷ drive 90661 5 0x02a00 ∷ drive 91061 5 0x06a00 ∷ drive 91161 6 0x00105 ∷ drive 91351 6 0x08105 ∷ strike 91351 5 2 ∷ drive 91351 5 0x02a00 ∷ drive 91451 6 0x00000 ∷ drive 91451 5 0x06a00 ∷ drive 91551 6 0x00105 ∷ drive 91706 6 0x08105 ∷ strike 91706 5 1 ∷ drive 91706 5 0x02a00 ∷ drive 91806 6 0x00000 ∷ drive 91806 5 0x06a00 ∷ drive 91906 6 0x00105 ∷ drive 92061 6 0x08105 ∷ strike 92061 5 5 ∷ drive 92061 5 0x02a00 ∷ drive 92161 6 0x00000 ∷ drive 92161 5 0x06a00 ∷ drive 92261 6 0x00105 ∷ drive 92416 6 0x08105 ∷ strike 92416 5 1 ∷ drive 92416 5 0x02a00 ∷ drive 92516 6 0x00000 ∷ drive 92516 5 0x06a00 ∷ drive 92616 6 0x00105 ∷ drive 92771 6 0x08105 ∷ drive 92771 5 0x02a00 ∷ drive 92871 6 0x00000 ∷ drive 92871 5 0x00000 ∷ drive 94071 0 0x00201 ∷ drive 96471 0 0x00601 ∷ drive 97671 0 0x10781 ∷ drive 97761 0 0x10581 ∷ drive 98261 7 0x00200 ∷ drive 98351 0 0x10000 ∷ drive 98451 7 0x02a00 ∷ drive 98951 7 0x06a00 ∷ drive 98951 0 0x10184 ∷ drive 99006 0 0x18184 ∷ drive 99106 7 0x02a00 ∷ drive 99106 0 0x10000 ∷ drive 99206 7 0x06a00 ∷ drive 99206 0 0x0000e ∷ drive 99296 0 0x0800e ∷ drive 99396 7 0x02a00 ∷ drive 99396 0 0x00000 ∷ drive 99496 7 0x00000 ∷ drive 196591 6 0x00240 ∷ drive 199091 6 0x00640 ∷ drive 200391 6 0x107c0 ∷ drive 200581 6 0x105c0 ∷ strike 201081 7 6 ∷ drive 250200681 6 0x10400 ∷ drive 250400871 6 0x00000 ∷ drive 250402171 6 0x00240 ∷ drive 250404671 6 0x00640 ∷ drive 250405971 6 0x107c0 ∷ drive 250406161 6 0x105c0 ∷ strike 250406661 7 1 ∷ drive 500406261 6 0x10400 ∷ drive 500606451 6 0x00000 ∷ drive 500607751 6 0x00240 ∷ drive 500610251 6 0x00640 ∷ drive 500611551 6 0x107c0 ∷ drive 500611741 6 0x105c0 ∷ strike 500612241 7 4 ∷ drive 750611841 6 0x10400 ∷ drive 750812031 6 0x00000 ∷ drive 750813331 6 0x00240 ∷ drive 750815831 6 0x00640 ∷ drive 750817131 6 0x107c0 ∷ drive 750817321 6 0x105c0 ∷ strike 750817821 7 3 ∷ drive 1000817421 6 0x10400 ∷ drive 1001017611 6 0x00000 ∷ []

abbrev abort_and_loss_items : List Item
abort_and_loss_items = items.Connect 87971 (process 6 5 (Some 2) None 1) false ∷ items.Out (to_target.Identify true 2) ∷ items.Cdb (37 ∷ []) ∷ items.Ready (process 6 5 (Some 2) None 1) ∷ items.Status 2 ∷ items.Out to_target.DetectedError ∷ items.Lost (process 6 5 (Some 2) None 1) ∷ items.Free 92871 ∷ items.Connect 98351 (process 0 7 (Some 4) None 0) false ∷ items.Out (to_target.Identify false 4) ∷ items.Out to_target.ClearQueue ∷ items.Abort 0 7 (Some 4) aborts.WholeQueue ∷ items.Free 99496 ∷ items.Unanswered 250400871 6 7 ∷ items.Unanswered 500606451 6 7 ∷ items.Unanswered 750812031 6 7 ∷ items.Unanswered 1001017611 6 7 ∷ []

abort_and_loss_told : transcript_of (reverse abort_and_loss_rows) ≡ abort_and_loss_items
unfolding ones union_below line_of form_out form_in by_change closed_by
abort_and_loss_told = refl

abort_and_loss_text : transcript_text abort_and_loss_items ≡ codes "transcript 1\nconnect 87971 6.5.2.-.1 first\nout c2\ncommand 25\nready 6.5.2.-.1\nstatus 02\nout 05\nlost 6.5.2.-.1\nfree 92871\nconnect 98351 0.7.4.-.0 first\nout 84\nout 0e\nabort 0 7 4 queue\nfree 99496\nunanswered 250400871 6 7\nunanswered 500606451 6 7\nunanswered 750812031 6 7\nunanswered 1001017611 6 7\ndone\n"
unfolding digits
abort_and_loss_text = refl

abbrev pub aborts_and_a_reset_rows : List Row
aborts_and_a_reset_rows = drive 8694 6 0x00240 ∷ drive 11104 6 0x00640 ∷ drive 12314 6 0x10748 ∷ drive 12414 6 0x10548 ∷ drive 12814 3 0x00200 ∷ drive 12914 6 0x10000 ∷ drive 12914 3 0x02a00 ∷ drive 13314 3 0x06a00 ∷ drive 13324 6 0x101c0 ∷ drive 13389 6 0x181c0 ∷ drive 13389 3 0x02a00 ∷ drive 13399 6 0x10000 ∷ drive 13399 3 0x06a00 ∷ drive 13409 6 0x10020 ∷ drive 13474 6 0x18020 ∷ drive 13474 3 0x02a00 ∷ drive 13484 6 0x10000 ∷ drive 13484 3 0x06a00 ∷ drive 13494 6 0x00100 ∷ drive 13594 6 0x08100 ∷ drive 13594 3 0x02a00 ∷ drive 13604 6 0x00000 ∷ drive 13604 3 0x00a00 ∷ drive 14004 3 0x04a00 ∷ drive 14014 6 0x00010 ∷ drive 14079 6 0x08010 ∷ drive 14079 3 0x00a00 ∷ drive 14089 6 0x00000 ∷ drive 14089 3 0x04a00 ∷ drive 14099 6 0x00100 ∷ drive 14164 6 0x08100 ∷ drive 14164 3 0x00a00 ∷ drive 14174 6 0x00000 ∷ drive 14174 3 0x04a00 ∷ drive 14184 6 0x00100 ∷ drive 14249 6 0x08100 ∷ drive 14249 3 0x00a00 ∷ drive 14259 6 0x00000 ∷ drive 14259 3 0x04a00 ∷ drive 14269 6 0x00100 ∷ drive 14334 6 0x08100 ∷ drive 14334 3 0x00a00 ∷ drive 14344 6 0x00000 ∷ drive 14344 3 0x04a00 ∷ drive 14354 6 0x00100 ∷ drive 14419 6 0x08100 ∷ drive 14419 3 0x00a00 ∷ drive 14429 6 0x00000 ∷ drive 14429 3 0x04a00 ∷ drive 14439 6 0x00100 ∷ drive 14504 6 0x08100 ∷ drive 14504 3 0x00a00 ∷ drive 14514 6 0x00000 ∷ drive 14514 3 0x03a00 ∷ drive 15314 3 0x03a04 ∷ drive 15369 3 0x07a04 ∷ drive 15379 6 0x08000 ∷ drive 15379 3 0x03a00 ∷ drive 15389 6 0x00000 ∷ drive 15389 3 0x00000 ∷ drive 16589 7 0x00280 ∷ drive 16589 3 0x00208 ∷ drive 18989 7 0x00680 ∷ drive 18989 3 0x00000 ∷ drive 20189 7 0x10788 ∷ drive 20279 7 0x10588 ∷ drive 20679 3 0x00200 ∷ drive 20769 7 0x10000 ∷ drive 20769 3 0x02a00 ∷ drive 21169 3 0x06a00 ∷ drive 21169 7 0x101c0 ∷ drive 21224 7 0x181c0 ∷ drive 21224 3 0x02a00 ∷ drive 21224 7 0x10000 ∷ drive 21224 3 0x06a00 ∷ drive 21224 7 0x10122 ∷ drive 21279 7 0x18122 ∷ drive 21279 3 0x02a00 ∷ drive 21279 7 0x10000 ∷ drive 21279 3 0x06a00 ∷ drive 21279 7 0x001ff ∷ drive 21369 7 0x081ff ∷ drive 21369 3 0x02a00 ∷ drive 21369 7 0x00000 ∷ drive 21369 3 0x00a00 ∷ drive 21769 3 0x04a00 ∷ drive 21769 7 0x00008 ∷ drive 21824 7 0x08008 ∷ drive 21824 3 0x00a00 ∷ drive 21824 7 0x00000 ∷ drive 21824 3 0x04a00 ∷ drive 21824 7 0x00100 ∷ drive 21879 7 0x08100 ∷ drive 21879 3 0x00a00 ∷ drive 21879 7 0x00000 ∷ drive 21879 3 0x04a00 ∷ drive 21879 7 0x00100 ∷ drive 21934 7 0x08100 ∷ drive 21934 3 0x00a00 ∷ drive 21934 7 0x00000 ∷ drive 21934 3 0x04a00 ∷ drive 21934 7 0x00100 ∷ drive 21989 7 0x08100 ∷ drive 21989 3 0x00a00 ∷ drive 21989 7 0x00000 ∷ drive 21989 3 0x04a00 ∷ drive 21989 7 0x00002 ∷ drive 22044 7 0x08002 ∷ drive 22044 3 0x00a00 ∷ drive 22044 7 0x00000 ∷ drive 22044 3 0x04a00 ∷ drive 22044 7 0x00100 ∷ drive 22099 7 0x08100 ∷ drive 22099 3 0x00a00 ∷ drive 22099 7 0x00000 ∷ drive 22099 3 0x03a00 ∷ drive 22899 3 0x03a04 ∷ drive 22954 3 0x07a04 ∷ drive 22954 7 0x08000 ∷ drive 22954 3 0x03a00 ∷ drive 22954 7 0x00000 ∷ drive 22954 3 0x00000 ∷ drive 24154 3 0x00208 ∷ drive 26554 3 0x00608 ∷ drive 27754 3 0x01748 ∷ drive 27844 3 0x01548 ∷ drive 28254 6 0x00200 ∷ drive 28254 3 0x01748 ∷ drive 28344 3 0x03a80 ∷ drive 28354 6 0x00000 ∷ drive 28744 3 0x07a80 ∷ drive 28754 6 0x08000 ∷ drive 28754 3 0x03a20 ∷ drive 28764 6 0x00000 ∷ drive 28809 3 0x07a20 ∷ drive 28819 6 0x08000 ∷ drive 28819 3 0x03b00 ∷ drive 28829 6 0x00000 ∷ drive 28874 3 0x07b00 ∷ drive 28884 6 0x08000 ∷ drive 28884 3 0x03a00 ∷ drive 28894 6 0x00000 ∷ drive 28894 3 0x01a02 ∷ drive 29294 3 0x05a02 ∷ drive 29304 6 0x08000 ∷ drive 29304 3 0x01a00 ∷ drive 29314 6 0x00000 ∷ drive 29314 3 0x03b00 ∷ drive 29714 3 0x07b00 ∷ drive 29724 6 0x08000 ∷ drive 29724 3 0x03a00 ∷ drive 29734 6 0x00000 ∷ drive 29734 3 0x00000 ∷ drive 30944 6 0x00240 ∷ drive 33354 6 0x00640 ∷ drive 34564 6 0x10748 ∷ drive 34664 6 0x10548 ∷ strike 35064 3 4 ∷ drive 36439 1 0x20000 ∷ drive 36449 6 0x00000 ∷ drive 61439 1 0x00000 ∷ drive 62649 6 0x00240 ∷ drive 65059 6 0x00640 ∷ drive 66269 6 0x10750 ∷ drive 66369 6 0x10550 ∷ drive 250066379 6 0x10400 ∷ drive 250266479 6 0x00000 ∷ drive 250267689 6 0x00240 ∷ drive 250270099 6 0x00640 ∷ drive 250271309 6 0x10750 ∷ drive 250271409 6 0x10550 ∷ drive 500271419 6 0x10400 ∷ drive 500471519 6 0x00000 ∷ drive 500472729 6 0x00240 ∷ drive 500475139 6 0x00640 ∷ drive 500476349 6 0x10750 ∷ drive 500476449 6 0x10550 ∷ drive 750476459 6 0x10400 ∷ drive 750676559 6 0x00000 ∷ drive 750677759 7 0x00280 ∷ drive 750677769 6 0x00240 ∷ drive 750680159 7 0x00680 ∷ drive 750680169 6 0x00000 ∷ drive 750681359 7 0x10788 ∷ drive 750681449 7 0x10588 ∷ drive 750681849 3 0x00200 ∷ drive 750681939 7 0x10000 ∷ drive 750681939 3 0x02a00 ∷ drive 750682339 3 0x06a00 ∷ drive 750682339 7 0x10080 ∷ drive 750682394 7 0x18080 ∷ drive 750682394 3 0x02a00 ∷ drive 750682394 7 0x10000 ∷ drive 750682394 3 0x06a00 ∷ drive 750682394 7 0x10020 ∷ drive 750682449 7 0x18020 ∷ drive 750682449 3 0x02a00 ∷ drive 750682449 7 0x10000 ∷ drive 750682449 3 0x06a00 ∷ drive 750682449 7 0x101ff ∷ drive 750682504 7 0x181ff ∷ drive 750682504 3 0x02a00 ∷ drive 750682504 7 0x10000 ∷ drive 750682504 3 0x06a00 ∷ drive 750682504 7 0x0000d ∷ drive 750682594 7 0x0800d ∷ drive 750682594 3 0x02a00 ∷ drive 750682594 7 0x00000 ∷ drive 750682594 3 0x00000 ∷ drive 750683804 6 0x00240 ∷ drive 750686214 6 0x00640 ∷ drive 750687424 6 0x10750 ∷ drive 750687524 6 0x10550 ∷ drive 1000687534 6 0x10400 ∷ drive 1000887634 6 0x00000 ∷ drive 1000888844 6 0x00240 ∷ drive 1000891254 6 0x00640 ∷ drive 1000892464 6 0x10750 ∷ drive 1000892564 6 0x10550 ∷ drive 1250892574 6 0x10400 ∷ drive 1251092674 6 0x00000 ∷ drive 1251093884 6 0x00240 ∷ drive 1251096294 6 0x00640 ∷ drive 1251097504 6 0x10750 ∷ drive 1251097604 6 0x10550 ∷ drive 1501097614 6 0x10400 ∷ drive 1501269653 1 0x20000 ∷ drive 1501269663 6 0x00000 ∷ drive 1501278449 3 0x20000 ∷ drive 1501294653 1 0x00000 ∷ drive 1501303449 3 0x00000 ∷ drive 1501304659 6 0x00240 ∷ drive 1501307069 6 0x00640 ∷ drive 1501308279 6 0x10750 ∷ drive 1501308379 6 0x10550 ∷ drive 1751308389 6 0x10400 ∷ drive 1751508489 6 0x00000 ∷ []

abbrev aborts_and_a_reset_items : List Item
aborts_and_a_reset_items = items.Connect 12914 (process 6 3 (Some 0) (Some 0) 1) false ∷ items.Out (to_target.Identify true 0) ∷ items.Out (to_target.SimpleTag 0) ∷ items.Cdb (16 ∷ 0 ∷ 0 ∷ 0 ∷ 0 ∷ 0 ∷ []) ∷ items.Arrive (process 6 3 (Some 0) (Some 0) 1) ∷ items.In to_initiator.Disconnect ∷ items.Free 15389 ∷ items.Connect 20769 (process 7 3 (Some 0) (Some 255) 1) false ∷ items.Out (to_target.Identify true 0) ∷ items.Out (to_target.OrderedTag 255) ∷ items.Cdb (8 ∷ 0 ∷ 0 ∷ 0 ∷ 2 ∷ 0 ∷ []) ∷ items.Arrive (process 7 3 (Some 0) (Some 255) 1) ∷ items.In to_initiator.Disconnect ∷ items.Free 22954 ∷ items.Connect 28344 (process 6 3 (Some 0) (Some 0) 1) true ∷ items.In (to_initiator.Identify 0) ∷ items.In (to_initiator.SimpleTag 0) ∷ items.Ready (process 6 3 (Some 0) (Some 0) 1) ∷ items.Status 2 ∷ items.In to_initiator.CommandComplete ∷ items.End (process 6 3 (Some 0) (Some 0) 1) (Some 2) ∷ items.Free 29734 ∷ items.Reset 1 ∷ items.Unanswered 250266479 6 4 ∷ items.Unanswered 500471519 6 4 ∷ items.Unanswered 750676559 6 4 ∷ items.Connect 750681939 (process 7 3 (Some 0) (Some 255) 0) false ∷ items.Out (to_target.Identify false 0) ∷ items.Out (to_target.SimpleTag 255) ∷ items.Out to_target.AbortTag ∷ items.Abort 7 3 (Some 0) (aborts.Tag 255) ∷ items.Free 750682594 ∷ items.Unanswered 1000887634 6 4 ∷ items.Unanswered 1251092674 6 4 ∷ items.Reset 1 ∷ items.Reset 3 ∷ items.Unanswered 1751508489 6 4 ∷ []

aborts_and_a_reset_told : transcript_of (reverse aborts_and_a_reset_rows) ≡ aborts_and_a_reset_items
unfolding ones union_below line_of form_out form_in by_change closed_by
aborts_and_a_reset_told = refl

aborts_and_a_reset_text : transcript_text aborts_and_a_reset_items ≡ codes "transcript 1\nconnect 12914 6.3.0.0.1 first\nout c0\nout 2000\ncommand 100000000000\narrive 6.3.0.0.1\nin 04\nfree 15389\nconnect 20769 7.3.0.255.1 first\nout c0\nout 22ff\ncommand 080000000200\narrive 7.3.0.255.1\nin 04\nfree 22954\nconnect 28344 6.3.0.0.1 again\nin 80\nin 2000\nready 6.3.0.0.1\nstatus 02\nin 00\nend 6.3.0.0.1 02\nfree 29734\nreset 1\nunanswered 250266479 6 4\nunanswered 500471519 6 4\nunanswered 750676559 6 4\nconnect 750681939 7.3.0.255.0 first\nout 80\nout 20ff\nout 0d\nabort 7 3 0 tag 255\nfree 750682594\nunanswered 1000887634 6 4\nunanswered 1251092674 6 4\nreset 1\nreset 3\nunanswered 1751508489 6 4\ndone\n"
unfolding digits
aborts_and_a_reset_text = refl

abbrev pub data_out_again_rows : List Row
data_out_again_rows = drive 88439 7 0x00280 ∷ drive 90839 7 0x00680 ∷ drive 92039 7 0x107a0 ∷ drive 92129 7 0x105a0 ∷ drive 92549 5 0x00200 ∷ drive 92639 7 0x10000 ∷ drive 92659 5 0x02a00 ∷ drive 93079 5 0x06a00 ∷ drive 93079 7 0x101c0 ∷ drive 93134 7 0x181c0 ∷ drive 93154 5 0x02a00 ∷ drive 93154 7 0x10000 ∷ drive 93174 5 0x06a00 ∷ drive 93174 7 0x10122 ∷ drive 93229 7 0x18122 ∷ drive 93249 5 0x02a00 ∷ drive 93249 7 0x10000 ∷ drive 93269 5 0x06a00 ∷ drive 93269 7 0x00100 ∷ drive 93359 7 0x08100 ∷ drive 93379 5 0x02a00 ∷ drive 93379 7 0x00000 ∷ drive 93399 5 0x00a00 ∷ drive 93819 5 0x04a00 ∷ drive 93819 7 0x0010a ∷ drive 93874 7 0x0810a ∷ drive 93894 5 0x00a00 ∷ drive 93894 7 0x00000 ∷ drive 93914 5 0x04a00 ∷ drive 93914 7 0x00100 ∷ drive 93969 7 0x08100 ∷ drive 93989 5 0x00a00 ∷ drive 93989 7 0x00000 ∷ drive 94009 5 0x04a00 ∷ drive 94009 7 0x00100 ∷ drive 94064 7 0x08100 ∷ drive 94084 5 0x00a00 ∷ drive 94084 7 0x00000 ∷ drive 94104 5 0x04a00 ∷ drive 94104 7 0x00001 ∷ drive 94159 7 0x08001 ∷ drive 94179 5 0x00a00 ∷ drive 94179 7 0x00000 ∷ drive 94199 5 0x04a00 ∷ drive 94199 7 0x00001 ∷ drive 94254 7 0x08001 ∷ drive 94274 5 0x00a00 ∷ drive 94274 7 0x00000 ∷ drive 94294 5 0x04a00 ∷ drive 94294 7 0x00100 ∷ drive 94349 7 0x08100 ∷ drive 94369 5 0x00a00 ∷ drive 94369 7 0x00000 ∷ drive 94389 5 0x03a00 ∷ drive 95209 5 0x03a04 ∷ drive 95284 5 0x07a04 ∷ drive 95284 7 0x08000 ∷ drive 95304 5 0x03a00 ∷ drive 95304 7 0x00000 ∷ drive 95324 5 0x00000 ∷ drive 96544 5 0x00220 ∷ drive 98964 5 0x00620 ∷ drive 100184 5 0x017a0 ∷ drive 100294 5 0x015a0 ∷ drive 100694 7 0x00200 ∷ drive 100714 5 0x017a0 ∷ drive 100824 5 0x03a80 ∷ drive 100824 7 0x00000 ∷ drive 101244 5 0x07a80 ∷ drive 101244 7 0x08000 ∷ drive 101264 5 0x03a20 ∷ drive 101264 7 0x00000 ∷ drive 101339 5 0x07a20 ∷ drive 101339 7 0x08000 ∷ drive 101359 5 0x03b00 ∷ drive 101359 7 0x00000 ∷ drive 101434 5 0x07b00 ∷ drive 101434 7 0x08000 ∷ drive 101454 5 0x03a00 ∷ drive 101454 7 0x00000 ∷ drive 101474 5 0x00200 ∷ drive 101894 5 0x04200 ∷ drive 101894 7 0x00032 ∷ drive 101949 7 0x08032 ∷ strike 101949 5 6 ∷ drive 101969 5 0x00200 ∷ drive 101969 7 0x00000 ∷ drive 101989 5 0x04200 ∷ drive 101989 7 0x00133 ∷ drive 102044 7 0x08133 ∷ drive 102064 5 0x00200 ∷ drive 102064 7 0x00000 ∷ drive 102084 5 0x04200 ∷ drive 102084 7 0x00034 ∷ drive 102139 7 0x08034 ∷ drive 102159 5 0x00200 ∷ drive 102159 7 0x00000 ∷ drive 102179 5 0x04200 ∷ drive 102179 7 0x00135 ∷ drive 102234 7 0x08135 ∷ drive 102254 5 0x00200 ∷ drive 102254 7 0x00000 ∷ drive 102274 5 0x04200 ∷ drive 102274 7 0x00136 ∷ drive 102329 7 0x08136 ∷ drive 102349 5 0x00200 ∷ drive 102349 7 0x00000 ∷ drive 102369 5 0x04200 ∷ drive 102369 7 0x00037 ∷ drive 102424 7 0x08037 ∷ drive 102444 5 0x00200 ∷ drive 102444 7 0x00000 ∷ drive 102464 5 0x04200 ∷ drive 102464 7 0x00038 ∷ drive 102519 7 0x08038 ∷ drive 102539 5 0x00200 ∷ drive 102539 7 0x00000 ∷ drive 102559 5 0x04200 ∷ drive 102559 7 0x00139 ∷ drive 102614 7 0x08139 ∷ drive 102634 5 0x00200 ∷ drive 102634 7 0x00000 ∷ drive 102654 5 0x04200 ∷ drive 102654 7 0x0013a ∷ drive 102709 7 0x0813a ∷ strike 102709 5 7 ∷ drive 102729 5 0x00200 ∷ drive 102729 7 0x00000 ∷ drive 102749 5 0x04200 ∷ drive 102749 7 0x0003b ∷ drive 102804 7 0x0803b ∷ drive 102824 5 0x00200 ∷ drive 102824 7 0x00000 ∷ drive 102844 5 0x04200 ∷ drive 102844 7 0x0013c ∷ drive 102899 7 0x0813c ∷ drive 102919 5 0x00200 ∷ drive 102919 7 0x00000 ∷ drive 102939 5 0x04200 ∷ drive 102939 7 0x0003d ∷ drive 102994 7 0x0803d ∷ drive 103014 5 0x00200 ∷ drive 103014 7 0x00000 ∷ drive 103034 5 0x04200 ∷ drive 103034 7 0x0003e ∷ drive 103089 7 0x0803e ∷ drive 103109 5 0x00200 ∷ drive 103109 7 0x00000 ∷ drive 103129 5 0x04200 ∷ drive 103129 7 0x0013f ∷ drive 103184 7 0x0813f ∷ drive 103204 5 0x00200 ∷ drive 103204 7 0x00000 ∷ drive 103224 5 0x04200 ∷ drive 103224 7 0x00040 ∷ drive 103279 7 0x08040 ∷ drive 103299 5 0x00200 ∷ drive 103299 7 0x00000 ∷ drive 103319 5 0x04200 ∷ drive 103319 7 0x00141 ∷ drive 103374 7 0x08141 ∷ drive 103394 5 0x00200 ∷ drive 103394 7 0x00000 ∷ drive 103414 5 0x04200 ∷ drive 103414 7 0x00142 ∷ drive 103469 7 0x08142 ∷ drive 103489 5 0x00200 ∷ drive 103489 7 0x00000 ∷ drive 103509 5 0x04200 ∷ drive 103509 7 0x00043 ∷ drive 103564 7 0x08043 ∷ drive 103584 5 0x00200 ∷ drive 103584 7 0x00000 ∷ drive 103604 5 0x04200 ∷ drive 103604 7 0x00144 ∷ drive 103659 7 0x08144 ∷ drive 103679 5 0x00200 ∷ drive 103679 7 0x00000 ∷ drive 103699 5 0x04200 ∷ drive 103699 7 0x00045 ∷ drive 103754 7 0x08045 ∷ drive 103774 5 0x00200 ∷ drive 103774 7 0x00000 ∷ drive 103794 5 0x04200 ∷ drive 103794 7 0x00046 ∷ drive 103849 7 0x08046 ∷ drive 103869 5 0x00200 ∷ drive 103869 7 0x00000 ∷ drive 103889 5 0x04200 ∷ drive 103889 7 0x00147 ∷ drive 103944 7 0x08147 ∷ drive 103964 5 0x00200 ∷ drive 103964 7 0x00000 ∷ drive 103984 5 0x04200 ∷ drive 103984 7 0x00148 ∷ drive 104039 7 0x08148 ∷ drive 104059 5 0x00200 ∷ drive 104059 7 0x00000 ∷ drive 104079 5 0x04200 ∷ drive 104079 7 0x00049 ∷ drive 104134 7 0x08049 ∷ drive 104154 5 0x00200 ∷ drive 104154 7 0x00000 ∷ drive 104174 5 0x04200 ∷ drive 104174 7 0x0004a ∷ drive 104229 7 0x0804a ∷ drive 104249 5 0x00200 ∷ drive 104249 7 0x00000 ∷ drive 104269 5 0x04200 ∷ drive 104269 7 0x0014b ∷ drive 104324 7 0x0814b ∷ drive 104344 5 0x00200 ∷ drive 104344 7 0x00000 ∷ drive 104364 5 0x04200 ∷ drive 104364 7 0x0004c ∷ drive 104419 7 0x0804c ∷ drive 104439 5 0x00200 ∷ drive 104439 7 0x00000 ∷ drive 104459 5 0x04200 ∷ drive 104459 7 0x0014d ∷ drive 104514 7 0x0814d ∷ drive 104534 5 0x00200 ∷ drive 104534 7 0x00000 ∷ drive 104554 5 0x04200 ∷ drive 104554 7 0x0014e ∷ drive 104609 7 0x0814e ∷ drive 104629 5 0x00200 ∷ drive 104629 7 0x00000 ∷ drive 104649 5 0x04200 ∷ drive 104649 7 0x0004f ∷ drive 104704 7 0x0804f ∷ drive 104724 5 0x00200 ∷ drive 104724 7 0x00000 ∷ drive 104744 5 0x04200 ∷ drive 104744 7 0x00150 ∷ drive 104799 7 0x08150 ∷ drive 104819 5 0x00200 ∷ drive 104819 7 0x00000 ∷ drive 104839 5 0x04200 ∷ drive 104839 7 0x00051 ∷ drive 104894 7 0x08051 ∷ drive 104914 5 0x00200 ∷ drive 104914 7 0x00000 ∷ drive 104934 5 0x01a00 ∷ drive 105754 5 0x01a02 ∷ drive 105829 5 0x05a02 ∷ drive 105829 7 0x08000 ∷ drive 105849 5 0x01a00 ∷ drive 105849 7 0x00000 ∷ drive 105869 5 0x03b00 ∷ drive 106289 5 0x07b00 ∷ drive 106289 7 0x08000 ∷ drive 106309 5 0x03a00 ∷ drive 106309 7 0x00000 ∷ drive 106329 5 0x00000 ∷ drive 107529 7 0x00280 ∷ drive 109929 7 0x00680 ∷ drive 111129 7 0x107a0 ∷ drive 111219 7 0x105a0 ∷ drive 111639 5 0x00200 ∷ drive 111729 7 0x10000 ∷ drive 111749 5 0x02a00 ∷ drive 112169 5 0x06a00 ∷ drive 112169 7 0x00080 ∷ drive 112259 7 0x08080 ∷ drive 112279 5 0x02a00 ∷ drive 112279 7 0x00000 ∷ drive 112299 5 0x00a00 ∷ drive 112719 5 0x04a00 ∷ drive 112719 7 0x00103 ∷ drive 112774 7 0x08103 ∷ drive 112794 5 0x00a00 ∷ drive 112794 7 0x00000 ∷ drive 112814 5 0x04a00 ∷ drive 112814 7 0x00100 ∷ drive 112869 7 0x08100 ∷ drive 112889 5 0x00a00 ∷ drive 112889 7 0x00000 ∷ drive 112909 5 0x04a00 ∷ drive 112909 7 0x00100 ∷ drive 112964 7 0x08100 ∷ drive 112984 5 0x00a00 ∷ drive 112984 7 0x00000 ∷ drive 113004 5 0x04a00 ∷ drive 113004 7 0x00100 ∷ drive 113059 7 0x08100 ∷ drive 113079 5 0x00a00 ∷ drive 113079 7 0x00000 ∷ drive 113099 5 0x04a00 ∷ drive 113099 7 0x00112 ∷ drive 113154 7 0x08112 ∷ drive 113174 5 0x00a00 ∷ drive 113174 7 0x00000 ∷ drive 113194 5 0x04a00 ∷ drive 113194 7 0x00100 ∷ drive 113249 7 0x08100 ∷ drive 113269 5 0x00a00 ∷ drive 113269 7 0x00000 ∷ drive 113289 5 0x01200 ∷ drive 114109 5 0x01270 ∷ drive 114184 5 0x05270 ∷ drive 114184 7 0x08000 ∷ drive 114204 5 0x01300 ∷ drive 114204 7 0x00000 ∷ drive 114279 5 0x05300 ∷ drive 114279 7 0x08000 ∷ drive 114299 5 0x0120b ∷ drive 114299 7 0x00000 ∷ drive 114374 5 0x0520b ∷ drive 114374 7 0x08000 ∷ drive 114394 5 0x01300 ∷ drive 114394 7 0x00000 ∷ drive 114469 5 0x05300 ∷ drive 114469 7 0x08000 ∷ drive 114489 5 0x01300 ∷ drive 114489 7 0x00000 ∷ drive 114564 5 0x05300 ∷ drive 114564 7 0x08000 ∷ drive 114584 5 0x01300 ∷ drive 114584 7 0x00000 ∷ drive 114659 5 0x05300 ∷ drive 114659 7 0x08000 ∷ drive 114679 5 0x01300 ∷ drive 114679 7 0x00000 ∷ drive 114754 5 0x05300 ∷ drive 114754 7 0x08000 ∷ drive 114774 5 0x0130a ∷ drive 114774 7 0x00000 ∷ drive 114849 5 0x0530a ∷ drive 114849 7 0x08000 ∷ drive 114869 5 0x01300 ∷ drive 114869 7 0x00000 ∷ drive 114944 5 0x05300 ∷ drive 114944 7 0x08000 ∷ drive 114964 5 0x01300 ∷ drive 114964 7 0x00000 ∷ drive 115039 5 0x05300 ∷ drive 115039 7 0x08000 ∷ drive 115059 5 0x01300 ∷ drive 115059 7 0x00000 ∷ drive 115134 5 0x05300 ∷ drive 115134 7 0x08000 ∷ drive 115154 5 0x01300 ∷ drive 115154 7 0x00000 ∷ drive 115229 5 0x05300 ∷ drive 115229 7 0x08000 ∷ drive 115249 5 0x01347 ∷ drive 115249 7 0x00000 ∷ drive 115324 5 0x05347 ∷ drive 115324 7 0x08000 ∷ drive 115344 5 0x01300 ∷ drive 115344 7 0x00000 ∷ drive 115419 5 0x05300 ∷ drive 115419 7 0x08000 ∷ drive 115439 5 0x01300 ∷ drive 115439 7 0x00000 ∷ drive 115514 5 0x05300 ∷ drive 115514 7 0x08000 ∷ drive 115534 5 0x01300 ∷ drive 115534 7 0x00000 ∷ drive 115609 5 0x05300 ∷ drive 115609 7 0x08000 ∷ drive 115629 5 0x01300 ∷ drive 115629 7 0x00000 ∷ drive 115704 5 0x05300 ∷ drive 115704 7 0x08000 ∷ drive 115724 5 0x01300 ∷ drive 115724 7 0x00000 ∷ drive 115799 5 0x05300 ∷ drive 115799 7 0x08000 ∷ drive 115819 5 0x01200 ∷ drive 115819 7 0x00000 ∷ drive 115839 5 0x01b00 ∷ drive 116259 5 0x05b00 ∷ drive 116259 7 0x08000 ∷ drive 116279 5 0x01a00 ∷ drive 116279 7 0x00000 ∷ drive 116299 5 0x03b00 ∷ drive 116719 5 0x07b00 ∷ drive 116719 7 0x08000 ∷ drive 116739 5 0x03a00 ∷ drive 116739 7 0x00000 ∷ drive 116759 5 0x00000 ∷ drive 117959 7 0x00280 ∷ drive 120359 7 0x00680 ∷ drive 121559 7 0x10782 ∷ drive 121649 7 0x10582 ∷ strike 122049 1 7 ∷ drive 250121649 7 0x10400 ∷ drive 250321739 7 0x00000 ∷ drive 250322939 7 0x00280 ∷ drive 250325339 7 0x00680 ∷ drive 250326539 7 0x10782 ∷ drive 250326629 7 0x10582 ∷ drive 250327029 1 0x00200 ∷ drive 250327119 7 0x10000 ∷ drive 250327119 1 0x02a00 ∷ drive 250327519 1 0x06a00 ∷ drive 250327519 7 0x101c3 ∷ drive 250327574 7 0x181c3 ∷ drive 250327574 1 0x02a00 ∷ drive 250327574 7 0x10000 ∷ drive 250327574 1 0x06a00 ∷ drive 250327574 7 0x10020 ∷ drive 250327629 7 0x18020 ∷ drive 250327629 1 0x02a00 ∷ drive 250327629 7 0x10000 ∷ drive 250327629 1 0x06a00 ∷ drive 250327629 7 0x00001 ∷ drive 250327719 7 0x08001 ∷ drive 250327719 1 0x02a00 ∷ drive 250327719 7 0x00000 ∷ drive 250327719 1 0x00a00 ∷ drive 250328119 1 0x04a00 ∷ drive 250328119 7 0x0010a ∷ drive 250328174 7 0x0810a ∷ drive 250328174 1 0x00a00 ∷ drive 250328174 7 0x00000 ∷ drive 250328174 1 0x04a00 ∷ drive 250328174 7 0x00100 ∷ drive 250328229 7 0x08100 ∷ drive 250328229 1 0x00a00 ∷ drive 250328229 7 0x00000 ∷ drive 250328229 1 0x04a00 ∷ drive 250328229 7 0x00100 ∷ drive 250328284 7 0x08100 ∷ drive 250328284 1 0x00a00 ∷ drive 250328284 7 0x00000 ∷ drive 250328284 1 0x04a00 ∷ drive 250328284 7 0x00001 ∷ drive 250328339 7 0x08001 ∷ drive 250328339 1 0x00a00 ∷ drive 250328339 7 0x00000 ∷ drive 250328339 1 0x04a00 ∷ drive 250328339 7 0x00001 ∷ drive 250328394 7 0x08001 ∷ drive 250328394 1 0x00a00 ∷ drive 250328394 7 0x00000 ∷ drive 250328394 1 0x04a00 ∷ drive 250328394 7 0x00100 ∷ drive 250328449 7 0x08100 ∷ drive 250328449 1 0x00a00 ∷ drive 250328449 7 0x00000 ∷ drive 250328449 1 0x01a00 ∷ drive 250329249 1 0x01a02 ∷ drive 250329304 1 0x05a02 ∷ drive 250329304 7 0x08000 ∷ drive 250329304 1 0x01a00 ∷ drive 250329304 7 0x00000 ∷ drive 250329304 1 0x03b00 ∷ drive 250329704 1 0x07b00 ∷ drive 250329704 7 0x08000 ∷ drive 250329704 1 0x03a00 ∷ drive 250329704 7 0x00000 ∷ drive 250329704 1 0x00000 ∷ drive 250330904 7 0x00280 ∷ drive 250333304 7 0x00680 ∷ drive 250334504 7 0x10782 ∷ drive 250334594 7 0x10582 ∷ drive 250334994 1 0x00200 ∷ drive 250335084 7 0x10000 ∷ drive 250335084 1 0x02a00 ∷ drive 250335484 1 0x06a00 ∷ drive 250335484 7 0x00083 ∷ drive 250335574 7 0x08083 ∷ drive 250335574 1 0x02a00 ∷ drive 250335574 7 0x00000 ∷ drive 250335574 1 0x00a00 ∷ drive 250335974 1 0x04a00 ∷ drive 250335974 7 0x00103 ∷ drive 250336029 7 0x08103 ∷ drive 250336029 1 0x00a00 ∷ drive 250336029 7 0x00000 ∷ drive 250336029 1 0x04a00 ∷ drive 250336029 7 0x00100 ∷ drive 250336084 7 0x08100 ∷ drive 250336084 1 0x00a00 ∷ drive 250336084 7 0x00000 ∷ drive 250336084 1 0x04a00 ∷ drive 250336084 7 0x00100 ∷ drive 250336139 7 0x08100 ∷ drive 250336139 1 0x00a00 ∷ drive 250336139 7 0x00000 ∷ drive 250336139 1 0x04a00 ∷ drive 250336139 7 0x00100 ∷ drive 250336194 7 0x08100 ∷ drive 250336194 1 0x00a00 ∷ drive 250336194 7 0x00000 ∷ drive 250336194 1 0x04a00 ∷ drive 250336194 7 0x00112 ∷ drive 250336249 7 0x08112 ∷ drive 250336249 1 0x00a00 ∷ drive 250336249 7 0x00000 ∷ drive 250336249 1 0x04a00 ∷ drive 250336249 7 0x00100 ∷ drive 250336304 7 0x08100 ∷ drive 250336304 1 0x00a00 ∷ drive 250336304 7 0x00000 ∷ drive 250336304 1 0x01200 ∷ drive 250337104 1 0x01270 ∷ drive 250337159 1 0x05270 ∷ drive 250337159 7 0x08000 ∷ drive 250337159 1 0x01300 ∷ drive 250337159 7 0x00000 ∷ drive 250337214 1 0x05300 ∷ drive 250337214 7 0x08000 ∷ drive 250337214 1 0x01305 ∷ drive 250337214 7 0x00000 ∷ drive 250337269 1 0x05305 ∷ drive 250337269 7 0x08000 ∷ drive 250337269 1 0x01300 ∷ drive 250337269 7 0x00000 ∷ drive 250337324 1 0x05300 ∷ drive 250337324 7 0x08000 ∷ drive 250337324 1 0x01300 ∷ drive 250337324 7 0x00000 ∷ drive 250337379 1 0x05300 ∷ drive 250337379 7 0x08000 ∷ drive 250337379 1 0x01300 ∷ drive 250337379 7 0x00000 ∷ drive 250337434 1 0x05300 ∷ drive 250337434 7 0x08000 ∷ drive 250337434 1 0x01300 ∷ drive 250337434 7 0x00000 ∷ drive 250337489 1 0x05300 ∷ drive 250337489 7 0x08000 ∷ drive 250337489 1 0x0130a ∷ drive 250337489 7 0x00000 ∷ drive 250337544 1 0x0530a ∷ drive 250337544 7 0x08000 ∷ drive 250337544 1 0x01300 ∷ drive 250337544 7 0x00000 ∷ drive 250337599 1 0x05300 ∷ drive 250337599 7 0x08000 ∷ drive 250337599 1 0x01300 ∷ drive 250337599 7 0x00000 ∷ drive 250337654 1 0x05300 ∷ drive 250337654 7 0x08000 ∷ drive 250337654 1 0x01300 ∷ drive 250337654 7 0x00000 ∷ drive 250337709 1 0x05300 ∷ drive 250337709 7 0x08000 ∷ drive 250337709 1 0x01300 ∷ drive 250337709 7 0x00000 ∷ drive 250337764 1 0x05300 ∷ drive 250337764 7 0x08000 ∷ drive 250337764 1 0x01225 ∷ drive 250337764 7 0x00000 ∷ drive 250337819 1 0x05225 ∷ drive 250337819 7 0x08000 ∷ drive 250337819 1 0x01300 ∷ drive 250337819 7 0x00000 ∷ drive 250337874 1 0x05300 ∷ drive 250337874 7 0x08000 ∷ drive 250337874 1 0x01300 ∷ drive 250337874 7 0x00000 ∷ drive 250337929 1 0x05300 ∷ drive 250337929 7 0x08000 ∷ drive 250337929 1 0x01300 ∷ drive 250337929 7 0x00000 ∷ drive 250337984 1 0x05300 ∷ drive 250337984 7 0x08000 ∷ drive 250337984 1 0x01300 ∷ drive 250337984 7 0x00000 ∷ drive 250338039 1 0x05300 ∷ drive 250338039 7 0x08000 ∷ drive 250338039 1 0x01300 ∷ drive 250338039 7 0x00000 ∷ drive 250338094 1 0x05300 ∷ drive 250338094 7 0x08000 ∷ drive 250338094 1 0x01200 ∷ drive 250338094 7 0x00000 ∷ drive 250338094 1 0x01b00 ∷ drive 250338494 1 0x05b00 ∷ drive 250338494 7 0x08000 ∷ drive 250338494 1 0x01a00 ∷ drive 250338494 7 0x00000 ∷ drive 250338494 1 0x03b00 ∷ drive 250338894 1 0x07b00 ∷ drive 250338894 7 0x08000 ∷ drive 250338894 1 0x03a00 ∷ drive 250338894 7 0x00000 ∷ drive 250338894 1 0x00000 ∷ []

abbrev data_out_again_items : List Item
data_out_again_items = items.Connect 92639 (process 7 5 (Some 0) (Some 0) 1) false ∷ items.Out (to_target.Identify true 0) ∷ items.Out (to_target.OrderedTag 0) ∷ items.Cdb (10 ∷ 0 ∷ 0 ∷ 1 ∷ 1 ∷ 0 ∷ []) ∷ items.Arrive (process 7 5 (Some 0) (Some 0) 1) ∷ items.In to_initiator.Disconnect ∷ items.Free 95324 ∷ items.Connect 100824 (process 7 5 (Some 0) (Some 0) 1) true ∷ items.In (to_initiator.Identify 0) ∷ items.In (to_initiator.SimpleTag 0) ∷ items.Payload true 0 (50 ∷ 51 ∷ 52 ∷ 53 ∷ 54 ∷ 55 ∷ 56 ∷ 57 ∷ 58 ∷ 59 ∷ 60 ∷ 61 ∷ 62 ∷ 63 ∷ 64 ∷ 65 ∷ 66 ∷ 67 ∷ 68 ∷ 69 ∷ 70 ∷ 71 ∷ 72 ∷ 73 ∷ 74 ∷ 75 ∷ 76 ∷ 77 ∷ 78 ∷ 79 ∷ 80 ∷ 81 ∷ []) ∷ items.Ready (process 7 5 (Some 0) (Some 0) 1) ∷ items.Status 2 ∷ items.In to_initiator.CommandComplete ∷ items.End (process 7 5 (Some 0) (Some 0) 1) (Some 2) ∷ items.Free 106329 ∷ items.Connect 111729 (process 7 5 (Some 0) None 1) false ∷ items.Out (to_target.Identify false 0) ∷ items.Cdb (3 ∷ 0 ∷ 0 ∷ 0 ∷ 18 ∷ 0 ∷ []) ∷ items.Arrive (process 7 5 (Some 0) None 1) ∷ items.Payload false 0 (112 ∷ 0 ∷ 11 ∷ 0 ∷ 0 ∷ 0 ∷ 0 ∷ 10 ∷ 0 ∷ 0 ∷ 0 ∷ 0 ∷ 71 ∷ 0 ∷ 0 ∷ 0 ∷ 0 ∷ 0 ∷ []) ∷ items.Ready (process 7 5 (Some 0) None 1) ∷ items.Status 0 ∷ items.In to_initiator.CommandComplete ∷ items.End (process 7 5 (Some 0) None 1) (Some 0) ∷ items.Free 116759 ∷ items.Unanswered 250321739 7 1 ∷ items.Connect 250327119 (process 7 1 (Some 3) (Some 1) 1) false ∷ items.Out (to_target.Identify true 3) ∷ items.Out (to_target.SimpleTag 1) ∷ items.Cdb (10 ∷ 0 ∷ 0 ∷ 1 ∷ 1 ∷ 0 ∷ []) ∷ items.Arrive (process 7 1 (Some 3) (Some 1) 1) ∷ items.Ready (process 7 1 (Some 3) (Some 1) 1) ∷ items.Status 2 ∷ items.In to_initiator.CommandComplete ∷ items.End (process 7 1 (Some 3) (Some 1) 1) (Some 2) ∷ items.Free 250329704 ∷ items.Connect 250335084 (process 7 1 (Some 3) None 1) false ∷ items.Out (to_target.Identify false 3) ∷ items.Cdb (3 ∷ 0 ∷ 0 ∷ 0 ∷ 18 ∷ 0 ∷ []) ∷ items.Arrive (process 7 1 (Some 3) None 1) ∷ items.Payload false 0 (112 ∷ 0 ∷ 5 ∷ 0 ∷ 0 ∷ 0 ∷ 0 ∷ 10 ∷ 0 ∷ 0 ∷ 0 ∷ 0 ∷ 37 ∷ 0 ∷ 0 ∷ 0 ∷ 0 ∷ 0 ∷ []) ∷ items.Ready (process 7 1 (Some 3) None 1) ∷ items.Status 0 ∷ items.In to_initiator.CommandComplete ∷ items.End (process 7 1 (Some 3) None 1) (Some 0) ∷ items.Free 250338894 ∷ []

data_out_again_told : transcript_of (reverse data_out_again_rows) ≡ data_out_again_items
unfolding ones union_below line_of form_out form_in by_change closed_by
data_out_again_told = refl

data_out_again_text : transcript_text data_out_again_items ≡ codes "transcript 1\nconnect 92639 7.5.0.0.1 first\nout c0\nout 2200\ncommand 0a0000010100\narrive 7.5.0.0.1\nin 04\nfree 95324\nconnect 100824 7.5.0.0.1 again\nin 80\nin 2000\ndataout 0 32333435363738393a3b3c3d3e3f404142434445464748494a4b4c4d4e4f5051\nready 7.5.0.0.1\nstatus 02\nin 00\nend 7.5.0.0.1 02\nfree 106329\nconnect 111729 7.5.0.-.1 first\nout 80\ncommand 030000001200\narrive 7.5.0.-.1\ndatain 0 70000b000000000a00000000470000000000\nready 7.5.0.-.1\nstatus 00\nin 00\nend 7.5.0.-.1 00\nfree 116759\nunanswered 250321739 7 1\nconnect 250327119 7.1.3.1.1 first\nout c3\nout 2001\ncommand 0a0000010100\narrive 7.1.3.1.1\nready 7.1.3.1.1\nstatus 02\nin 00\nend 7.1.3.1.1 02\nfree 250329704\nconnect 250335084 7.1.3.-.1 first\nout 83\n" ++ (codes "command 030000001200\narrive 7.1.3.-.1\ndatain 0 700005000000000a00000000250000000000\nready 7.1.3.-.1\nstatus 00\nin 00\nend 7.1.3.-.1 00\nfree 250338894\ndone\n")
unfolding digits
data_out_again_text = refl

abbrev pub lost_after_a_calling_rows : List Row
lost_after_a_calling_rows = drive 22342 2 0x00204 ∷ drive 24834 2 0x00604 ∷ drive 26126 2 0x10714 ∷ drive 26308 2 0x10514 ∷ drive 26760 4 0x00200 ∷ drive 26942 2 0x10000 ∷ drive 26994 4 0x02a00 ∷ drive 27446 4 0x06a00 ∷ drive 27538 2 0x001c5 ∷ drive 27720 2 0x081c5 ∷ strike 27720 4 4 ∷ drive 27772 4 0x02a00 ∷ drive 27864 2 0x00000 ∷ drive 27916 4 0x06a00 ∷ drive 28008 2 0x001c5 ∷ drive 28155 2 0x081c5 ∷ drive 28207 4 0x02a00 ∷ drive 28299 2 0x00000 ∷ drive 28351 4 0x00a00 ∷ drive 28803 4 0x04a00 ∷ drive 28895 2 0x0002a ∷ drive 29042 2 0x0802a ∷ drive 29094 4 0x00a00 ∷ drive 29186 2 0x00000 ∷ drive 29238 4 0x04a00 ∷ drive 29330 2 0x00118 ∷ drive 29477 2 0x08118 ∷ drive 29529 4 0x00a00 ∷ drive 29621 2 0x00000 ∷ drive 29673 4 0x04a00 ∷ drive 29765 2 0x00100 ∷ drive 29912 2 0x08100 ∷ drive 29964 4 0x00a00 ∷ drive 30056 2 0x00000 ∷ drive 30108 4 0x04a00 ∷ drive 30200 2 0x00100 ∷ drive 30347 2 0x08100 ∷ drive 30399 4 0x00a00 ∷ drive 30491 2 0x00000 ∷ drive 30543 4 0x04a00 ∷ drive 30635 2 0x00100 ∷ drive 30782 2 0x08100 ∷ drive 30834 4 0x00a00 ∷ drive 30926 2 0x00000 ∷ drive 30978 4 0x04a00 ∷ drive 31070 2 0x00100 ∷ drive 31217 2 0x08100 ∷ drive 31269 4 0x00a00 ∷ drive 31361 2 0x00000 ∷ drive 31413 4 0x04a00 ∷ drive 31505 2 0x00100 ∷ drive 31652 2 0x08100 ∷ strike 31652 4 5 ∷ drive 31704 4 0x00a00 ∷ drive 31796 2 0x00000 ∷ drive 31848 4 0x01a00 ∷ drive 32700 4 0x01a02 ∷ drive 32807 4 0x05a02 ∷ strike 32807 2 4 ∷ drive 32899 2 0x18000 ∷ drive 32951 4 0x01a00 ∷ drive 33081 2 0x10000 ∷ drive 33133 4 0x02a00 ∷ drive 33585 4 0x06a00 ∷ drive 33677 2 0x00105 ∷ drive 33859 2 0x08105 ∷ drive 33911 4 0x02a00 ∷ drive 34003 2 0x00000 ∷ drive 34055 4 0x00000 ∷ drive 65523 5 0x00220 ∷ drive 68021 5 0x00620 ∷ drive 69319 5 0x10721 ∷ drive 69507 5 0x10521 ∷ strike 69972 0 8 ∷ drive 250069605 5 0x10400 ∷ drive 250269793 5 0x00000 ∷ drive 250271091 5 0x00220 ∷ drive 250273589 5 0x00620 ∷ drive 250274887 5 0x10721 ∷ drive 250275075 5 0x10521 ∷ strike 250275540 0 1 ∷ drive 500275173 5 0x10400 ∷ drive 500475361 5 0x00000 ∷ drive 500476659 5 0x00220 ∷ drive 500479157 5 0x00620 ∷ drive 500480455 5 0x10721 ∷ drive 500480643 5 0x10521 ∷ strike 500481108 0 3 ∷ drive 750480741 5 0x10400 ∷ drive 750680929 5 0x00000 ∷ []

abbrev lost_after_a_calling_items : List Item
lost_after_a_calling_items = items.Connect 26942 (process 2 4 (Some 5) None 1) false ∷ items.Out (to_target.Identify true 5) ∷ items.Cdb (42 ∷ 24 ∷ 0 ∷ 0 ∷ 0 ∷ 0 ∷ 0 ∷ []) ∷ items.Ready (process 2 4 (Some 5) None 1) ∷ items.Status 2 ∷ items.Out to_target.DetectedError ∷ items.Lost (process 2 4 (Some 5) None 1) ∷ items.Free 34055 ∷ items.Unanswered 250269793 5 0 ∷ items.Unanswered 500475361 5 0 ∷ items.Unanswered 750680929 5 0 ∷ []

lost_after_a_calling_told : transcript_of (reverse lost_after_a_calling_rows) ≡ lost_after_a_calling_items
unfolding ones union_below line_of form_out form_in by_change closed_by
lost_after_a_calling_told = refl

lost_after_a_calling_text : transcript_text lost_after_a_calling_items ≡ codes "transcript 1\nconnect 26942 2.4.5.-.1 first\nout c5\ncommand 2a180000000000\nready 2.4.5.-.1\nstatus 02\nout 05\nlost 2.4.5.-.1\nfree 34055\nunanswered 250269793 5 0\nunanswered 500475361 5 0\nunanswered 750680929 5 0\ndone\n"
unfolding digits
lost_after_a_calling_text = refl

abbrev pub lost_in_data_out_rows : List Row
lost_in_data_out_rows = drive 60243 1 0x00202 ∷ drive 62743 1 0x00602 ∷ drive 64043 1 0x1070a ∷ drive 64233 1 0x1050a ∷ drive 64633 3 0x00200 ∷ drive 64823 1 0x10000 ∷ drive 64823 3 0x02a00 ∷ drive 65223 3 0x06a00 ∷ drive 65323 1 0x101c3 ∷ drive 65478 1 0x181c3 ∷ drive 65478 3 0x02a00 ∷ drive 65578 1 0x10000 ∷ drive 65578 3 0x06a00 ∷ drive 65678 1 0x10020 ∷ drive 65833 1 0x18020 ∷ drive 65833 3 0x02a00 ∷ drive 65933 1 0x10000 ∷ drive 65933 3 0x06a00 ∷ drive 66033 1 0x00100 ∷ drive 66223 1 0x08100 ∷ drive 66223 3 0x02a00 ∷ drive 66323 1 0x00000 ∷ drive 66323 3 0x00a00 ∷ drive 66723 3 0x04a00 ∷ drive 66823 1 0x0002a ∷ drive 66978 1 0x0802a ∷ drive 66978 3 0x00a00 ∷ drive 67078 1 0x00000 ∷ drive 67078 3 0x04a00 ∷ drive 67178 1 0x00100 ∷ drive 67333 1 0x08100 ∷ drive 67333 3 0x00a00 ∷ drive 67433 1 0x00000 ∷ drive 67433 3 0x04a00 ∷ drive 67533 1 0x00100 ∷ drive 67688 1 0x08100 ∷ drive 67688 3 0x00a00 ∷ drive 67788 1 0x00000 ∷ drive 67788 3 0x04a00 ∷ drive 67888 1 0x00100 ∷ drive 68043 1 0x08100 ∷ drive 68043 3 0x00a00 ∷ drive 68143 1 0x00000 ∷ drive 68143 3 0x04a00 ∷ drive 68243 1 0x00100 ∷ drive 68398 1 0x08100 ∷ drive 68398 3 0x00a00 ∷ drive 68498 1 0x00000 ∷ drive 68498 3 0x04a00 ∷ drive 68598 1 0x00100 ∷ drive 68753 1 0x08100 ∷ drive 68753 3 0x00a00 ∷ drive 68853 1 0x00000 ∷ drive 68853 3 0x04a00 ∷ drive 68953 1 0x00100 ∷ drive 69108 1 0x08100 ∷ drive 69108 3 0x00a00 ∷ drive 69208 1 0x00000 ∷ drive 69208 3 0x04a00 ∷ drive 69308 1 0x00100 ∷ drive 69463 1 0x08100 ∷ drive 69463 3 0x00a00 ∷ drive 69563 1 0x00000 ∷ drive 69563 3 0x04a00 ∷ drive 69663 1 0x00001 ∷ drive 69818 1 0x08001 ∷ drive 69818 3 0x00a00 ∷ drive 69918 1 0x00000 ∷ drive 69918 3 0x04a00 ∷ drive 70018 1 0x00100 ∷ drive 70173 1 0x08100 ∷ drive 70173 3 0x00a00 ∷ drive 70273 1 0x00000 ∷ drive 70273 3 0x00200 ∷ drive 70673 3 0x04200 ∷ drive 70773 1 0x00193 ∷ drive 70928 1 0x08193 ∷ drive 70928 3 0x00200 ∷ drive 71028 1 0x00000 ∷ drive 71028 3 0x04200 ∷ drive 71128 1 0x00094 ∷ drive 71283 1 0x08094 ∷ drive 71283 3 0x00200 ∷ drive 71383 1 0x00000 ∷ drive 71383 3 0x04200 ∷ drive 71483 1 0x00195 ∷ drive 71638 1 0x08195 ∷ drive 71638 3 0x00200 ∷ drive 71738 1 0x00000 ∷ drive 71738 3 0x04200 ∷ drive 71838 1 0x00196 ∷ drive 71993 1 0x08196 ∷ drive 71993 3 0x00200 ∷ drive 72093 1 0x00000 ∷ drive 72093 3 0x04200 ∷ drive 72193 1 0x00097 ∷ drive 72348 1 0x08097 ∷ drive 72348 3 0x00200 ∷ drive 72448 1 0x00000 ∷ drive 72448 3 0x04200 ∷ drive 72548 1 0x00098 ∷ drive 72703 1 0x08098 ∷ drive 72703 3 0x00200 ∷ drive 72803 1 0x00000 ∷ drive 72803 3 0x04200 ∷ drive 72903 1 0x00199 ∷ drive 73058 1 0x08199 ∷ drive 73058 3 0x00200 ∷ drive 73158 1 0x00000 ∷ drive 73158 3 0x04200 ∷ drive 73258 1 0x0019a ∷ drive 73413 1 0x0819a ∷ strike 73413 3 3 ∷ drive 73413 3 0x00200 ∷ drive 73513 1 0x00000 ∷ drive 73513 3 0x04200 ∷ drive 73613 1 0x0009b ∷ drive 73768 1 0x0809b ∷ drive 73768 3 0x00200 ∷ drive 73868 1 0x00000 ∷ drive 73868 3 0x04200 ∷ drive 73968 1 0x0019c ∷ drive 74123 1 0x0819c ∷ drive 74123 3 0x00200 ∷ drive 74223 1 0x00000 ∷ drive 74223 3 0x04200 ∷ drive 74323 1 0x0009d ∷ drive 74478 1 0x0809d ∷ drive 74478 3 0x00200 ∷ drive 74578 1 0x00000 ∷ drive 74578 3 0x04200 ∷ drive 74678 1 0x0009e ∷ drive 74833 1 0x0809e ∷ drive 74833 3 0x00200 ∷ drive 74933 1 0x00000 ∷ drive 74933 3 0x04200 ∷ drive 75033 1 0x0019f ∷ drive 75188 1 0x0819f ∷ strike 75188 3 5 ∷ drive 75188 3 0x00200 ∷ drive 75288 1 0x00000 ∷ drive 75288 3 0x04200 ∷ drive 75388 1 0x001a0 ∷ drive 75543 1 0x081a0 ∷ strike 75543 3 3 ∷ drive 75543 3 0x00200 ∷ drive 75643 1 0x00000 ∷ drive 75643 3 0x04200 ∷ drive 75743 1 0x000a1 ∷ drive 75898 1 0x080a1 ∷ strike 75898 3 0 ∷ drive 75898 3 0x00200 ∷ drive 75998 1 0x00000 ∷ drive 75998 3 0x04200 ∷ drive 76098 1 0x000a2 ∷ drive 76253 1 0x080a2 ∷ strike 76253 3 4 ∷ drive 76253 3 0x00200 ∷ drive 76353 1 0x00000 ∷ drive 76353 3 0x01a00 ∷ drive 77153 3 0x01a02 ∷ drive 77208 3 0x05a02 ∷ strike 77208 1 1 ∷ drive 77308 1 0x18000 ∷ drive 77308 3 0x01a00 ∷ drive 77498 1 0x10000 ∷ drive 77498 3 0x02a00 ∷ drive 77898 3 0x06a00 ∷ drive 77998 1 0x00105 ∷ drive 78188 1 0x08105 ∷ drive 78188 3 0x02a00 ∷ drive 78288 1 0x00000 ∷ drive 78288 3 0x00000 ∷ drive 79488 0 0x00201 ∷ drive 81888 0 0x00601 ∷ drive 83088 0 0x10705 ∷ drive 83178 0 0x10505 ∷ drive 83678 2 0x00200 ∷ drive 83768 0 0x10000 ∷ drive 83868 2 0x02a00 ∷ drive 84368 2 0x06a00 ∷ drive 84368 0 0x10086 ∷ drive 84423 0 0x18086 ∷ drive 84523 2 0x02a00 ∷ drive 84523 0 0x10000 ∷ drive 84623 2 0x06a00 ∷ drive 84623 0 0x00106 ∷ drive 84713 0 0x08106 ∷ drive 84813 2 0x02a00 ∷ drive 84813 0 0x00000 ∷ drive 84913 2 0x00000 ∷ drive 86213 1 0x00202 ∷ drive 88713 1 0x00602 ∷ drive 90013 1 0x1070a ∷ drive 90203 1 0x1050a ∷ drive 90603 3 0x00200 ∷ drive 90793 1 0x10000 ∷ drive 90793 3 0x02a00 ∷ drive 91193 3 0x06a00 ∷ drive 91293 1 0x101c0 ∷ drive 91448 1 0x181c0 ∷ drive 91448 3 0x02a00 ∷ drive 91548 1 0x10000 ∷ drive 91548 3 0x06a00 ∷ drive 91648 1 0x10121 ∷ drive 91803 1 0x18121 ∷ drive 91803 3 0x02a00 ∷ drive 91903 1 0x10000 ∷ drive 91903 3 0x06a00 ∷ drive 92003 1 0x00001 ∷ drive 92193 1 0x08001 ∷ drive 92193 3 0x02a00 ∷ drive 92293 1 0x00000 ∷ drive 92293 3 0x00a00 ∷ drive 92693 3 0x04a00 ∷ drive 92793 1 0x00100 ∷ drive 92948 1 0x08100 ∷ drive 92948 3 0x00a00 ∷ drive 93048 1 0x00000 ∷ drive 93048 3 0x04a00 ∷ drive 93148 1 0x00100 ∷ drive 93303 1 0x08100 ∷ drive 93303 3 0x00a00 ∷ drive 93403 1 0x00000 ∷ drive 93403 3 0x04a00 ∷ drive 93503 1 0x00001 ∷ drive 93658 1 0x08001 ∷ drive 93658 3 0x00a00 ∷ drive 93758 1 0x00000 ∷ drive 93758 3 0x04a00 ∷ drive 93858 1 0x00100 ∷ drive 94013 1 0x08100 ∷ drive 94013 3 0x00a00 ∷ drive 94113 1 0x00000 ∷ drive 94113 3 0x04a00 ∷ drive 94213 1 0x00100 ∷ drive 94368 1 0x08100 ∷ drive 94368 3 0x00a00 ∷ drive 94468 1 0x00000 ∷ drive 94468 3 0x04a00 ∷ drive 94568 1 0x00100 ∷ drive 94723 1 0x08100 ∷ drive 94723 3 0x00a00 ∷ drive 94823 1 0x00000 ∷ drive 94823 3 0x01a00 ∷ drive 95623 3 0x01a02 ∷ drive 95678 3 0x05a02 ∷ drive 95778 1 0x08000 ∷ drive 95778 3 0x01a00 ∷ drive 95878 1 0x00000 ∷ drive 95878 3 0x03b00 ∷ drive 96278 3 0x07b00 ∷ drive 96378 1 0x08000 ∷ drive 96378 3 0x03a00 ∷ drive 96478 1 0x00000 ∷ drive 96478 3 0x00000 ∷ drive 97778 1 0x00202 ∷ drive 100278 1 0x00602 ∷ drive 101578 1 0x1070a ∷ drive 101768 1 0x1050a ∷ drive 102168 3 0x00200 ∷ drive 102358 1 0x10000 ∷ drive 102358 3 0x02a00 ∷ drive 102758 3 0x06a00 ∷ drive 102858 1 0x00080 ∷ drive 103048 1 0x08080 ∷ drive 103048 3 0x02a00 ∷ drive 103148 1 0x00000 ∷ drive 103148 3 0x00a00 ∷ drive 103548 3 0x04a00 ∷ drive 103648 1 0x00103 ∷ drive 103803 1 0x08103 ∷ drive 103803 3 0x00a00 ∷ drive 103903 1 0x00000 ∷ drive 103903 3 0x04a00 ∷ drive 104003 1 0x00100 ∷ drive 104158 1 0x08100 ∷ drive 104158 3 0x00a00 ∷ drive 104258 1 0x00000 ∷ drive 104258 3 0x04a00 ∷ drive 104358 1 0x00100 ∷ drive 104513 1 0x08100 ∷ drive 104513 3 0x00a00 ∷ drive 104613 1 0x00000 ∷ drive 104613 3 0x04a00 ∷ drive 104713 1 0x00100 ∷ drive 104868 1 0x08100 ∷ drive 104868 3 0x00a00 ∷ drive 104968 1 0x00000 ∷ drive 104968 3 0x04a00 ∷ drive 105068 1 0x00112 ∷ drive 105223 1 0x08112 ∷ drive 105223 3 0x00a00 ∷ drive 105323 1 0x00000 ∷ drive 105323 3 0x04a00 ∷ drive 105423 1 0x00100 ∷ drive 105578 1 0x08100 ∷ drive 105578 3 0x00a00 ∷ drive 105678 1 0x00000 ∷ drive 105678 3 0x01200 ∷ drive 106478 3 0x01270 ∷ drive 106533 3 0x05270 ∷ drive 106633 1 0x08000 ∷ drive 106633 3 0x01300 ∷ drive 106733 1 0x00000 ∷ drive 106733 3 0x05300 ∷ drive 106833 1 0x08000 ∷ drive 106833 3 0x01305 ∷ drive 106933 1 0x00000 ∷ drive 106933 3 0x05305 ∷ drive 107033 1 0x08000 ∷ drive 107033 3 0x01300 ∷ drive 107133 1 0x00000 ∷ drive 107133 3 0x05300 ∷ drive 107233 1 0x08000 ∷ drive 107233 3 0x01300 ∷ drive 107333 1 0x00000 ∷ drive 107333 3 0x05300 ∷ drive 107433 1 0x08000 ∷ drive 107433 3 0x01300 ∷ drive 107533 1 0x00000 ∷ drive 107533 3 0x05300 ∷ drive 107633 1 0x08000 ∷ drive 107633 3 0x01300 ∷ drive 107733 1 0x00000 ∷ drive 107733 3 0x05300 ∷ drive 107833 1 0x08000 ∷ drive 107833 3 0x0130a ∷ drive 107933 1 0x00000 ∷ drive 107933 3 0x0530a ∷ drive 108033 1 0x08000 ∷ drive 108033 3 0x01300 ∷ drive 108133 1 0x00000 ∷ drive 108133 3 0x05300 ∷ drive 108233 1 0x08000 ∷ drive 108233 3 0x01300 ∷ drive 108333 1 0x00000 ∷ drive 108333 3 0x05300 ∷ drive 108433 1 0x08000 ∷ drive 108433 3 0x01300 ∷ drive 108533 1 0x00000 ∷ drive 108533 3 0x05300 ∷ drive 108633 1 0x08000 ∷ drive 108633 3 0x01300 ∷ drive 108733 1 0x00000 ∷ drive 108733 3 0x05300 ∷ drive 108833 1 0x08000 ∷ drive 108833 3 0x01324 ∷ drive 108933 1 0x00000 ∷ drive 108933 3 0x05324 ∷ drive 109033 1 0x08000 ∷ drive 109033 3 0x01300 ∷ drive 109133 1 0x00000 ∷ drive 109133 3 0x05300 ∷ drive 109233 1 0x08000 ∷ drive 109233 3 0x01300 ∷ drive 109333 1 0x00000 ∷ drive 109333 3 0x05300 ∷ drive 109433 1 0x08000 ∷ drive 109433 3 0x01300 ∷ drive 109533 1 0x00000 ∷ drive 109533 3 0x05300 ∷ drive 109633 1 0x08000 ∷ drive 109633 3 0x01300 ∷ drive 109733 1 0x00000 ∷ drive 109733 3 0x05300 ∷ drive 109833 1 0x08000 ∷ drive 109833 3 0x01300 ∷ drive 109933 1 0x00000 ∷ drive 109933 3 0x05300 ∷ drive 110033 1 0x08000 ∷ drive 110033 3 0x01200 ∷ drive 110133 1 0x00000 ∷ drive 110133 3 0x01b00 ∷ drive 110533 3 0x05b00 ∷ drive 110633 1 0x08000 ∷ drive 110633 3 0x01a00 ∷ drive 110733 1 0x00000 ∷ drive 110733 3 0x03b00 ∷ drive 111133 3 0x07b00 ∷ drive 111233 1 0x08000 ∷ drive 111233 3 0x03a00 ∷ drive 111333 1 0x00000 ∷ drive 111333 3 0x00000 ∷ []

abbrev lost_in_data_out_items : List Item
lost_in_data_out_items = items.Connect 64823 (process 1 3 (Some 3) (Some 0) 1) false ∷ items.Out (to_target.Identify true 3) ∷ items.Out (to_target.SimpleTag 0) ∷ items.Cdb (42 ∷ 0 ∷ 0 ∷ 0 ∷ 0 ∷ 0 ∷ 0 ∷ 0 ∷ 1 ∷ 0 ∷ []) ∷ items.Arrive (process 1 3 (Some 3) (Some 0) 1) ∷ items.Payload true 0 (147 ∷ 148 ∷ 149 ∷ 150 ∷ 151 ∷ 152 ∷ 153 ∷ 154 ∷ 155 ∷ 156 ∷ 157 ∷ 158 ∷ 159 ∷ 160 ∷ 161 ∷ 162 ∷ []) ∷ items.Ready (process 1 3 (Some 3) (Some 0) 1) ∷ items.Status 2 ∷ items.Out to_target.DetectedError ∷ items.Lost (process 1 3 (Some 3) (Some 0) 1) ∷ items.Free 78288 ∷ items.Connect 83768 (process 0 2 (Some 6) None 0) false ∷ items.Out (to_target.Identify false 6) ∷ items.Out to_target.Abort ∷ items.Abort 0 2 (Some 6) aborts.All ∷ items.Free 84913 ∷ items.Connect 90793 (process 1 3 (Some 0) (Some 1) 1) false ∷ items.Out (to_target.Identify true 0) ∷ items.Out (to_target.HeadTag 1) ∷ items.Cdb (0 ∷ 0 ∷ 1 ∷ 0 ∷ 0 ∷ 0 ∷ []) ∷ items.Arrive (process 1 3 (Some 0) (Some 1) 1) ∷ items.Ready (process 1 3 (Some 0) (Some 1) 1) ∷ items.Status 2 ∷ items.In to_initiator.CommandComplete ∷ items.End (process 1 3 (Some 0) (Some 1) 1) (Some 2) ∷ items.Free 96478 ∷ items.Connect 102358 (process 1 3 (Some 0) None 1) false ∷ items.Out (to_target.Identify false 0) ∷ items.Cdb (3 ∷ 0 ∷ 0 ∷ 0 ∷ 18 ∷ 0 ∷ []) ∷ items.Arrive (process 1 3 (Some 0) None 1) ∷ items.Payload false 0 (112 ∷ 0 ∷ 5 ∷ 0 ∷ 0 ∷ 0 ∷ 0 ∷ 10 ∷ 0 ∷ 0 ∷ 0 ∷ 0 ∷ 36 ∷ 0 ∷ 0 ∷ 0 ∷ 0 ∷ 0 ∷ []) ∷ items.Ready (process 1 3 (Some 0) None 1) ∷ items.Status 0 ∷ items.In to_initiator.CommandComplete ∷ items.End (process 1 3 (Some 0) None 1) (Some 0) ∷ items.Free 111333 ∷ []

lost_in_data_out_told : transcript_of (reverse lost_in_data_out_rows) ≡ lost_in_data_out_items
unfolding ones union_below line_of form_out form_in by_change closed_by
lost_in_data_out_told = refl

lost_in_data_out_text : transcript_text lost_in_data_out_items ≡ codes "transcript 1\nconnect 64823 1.3.3.0.1 first\nout c3\nout 2000\ncommand 2a000000000000000100\narrive 1.3.3.0.1\ndataout 0 939495969798999a9b9c9d9e9fa0a1a2\nready 1.3.3.0.1\nstatus 02\nout 05\nlost 1.3.3.0.1\nfree 78288\nconnect 83768 0.2.6.-.0 first\nout 86\nout 06\nabort 0 2 6 all\nfree 84913\nconnect 90793 1.3.0.1.1 first\nout c0\nout 2101\ncommand 000001000000\narrive 1.3.0.1.1\nready 1.3.0.1.1\nstatus 02\nin 00\nend 1.3.0.1.1 02\nfree 96478\nconnect 102358 1.3.0.-.1 first\nout 80\ncommand 030000001200\narrive 1.3.0.-.1\ndatain 0 700005000000000a00000000240000000000\nready 1.3.0.-.1\nstatus 00\nin 00\nend 1.3.0.-.1 00\nfree 111333\ndone\n"
unfolding digits
lost_in_data_out_text = refl

abbrev pub parity_errors_rows : List Row
parity_errors_rows = drive 27206 7 0x00280 ∷ drive 29620 7 0x00680 ∷ drive 30834 7 0x10790 ∷ drive 30938 7 0x10590 ∷ drive 31434 4 0x00200 ∷ drive 31538 7 0x10000 ∷ drive 31634 4 0x02a00 ∷ drive 32130 4 0x06a00 ∷ drive 32144 7 0x101c0 ∷ drive 32213 7 0x181c0 ∷ drive 32309 4 0x02a00 ∷ drive 32323 7 0x10000 ∷ drive 32419 4 0x06a00 ∷ drive 32433 7 0x10020 ∷ drive 32502 7 0x18020 ∷ drive 32598 4 0x02a00 ∷ drive 32612 7 0x10000 ∷ drive 32708 4 0x06a00 ∷ drive 32722 7 0x001ff ∷ drive 32826 7 0x081ff ∷ drive 32922 4 0x02a00 ∷ drive 32936 7 0x00000 ∷ drive 33032 4 0x00a00 ∷ drive 33528 4 0x04a00 ∷ drive 33542 7 0x00100 ∷ drive 33611 7 0x08100 ∷ drive 33707 4 0x00a00 ∷ drive 33721 7 0x00000 ∷ drive 33817 4 0x04a00 ∷ drive 33831 7 0x00100 ∷ drive 33900 7 0x08100 ∷ drive 33996 4 0x00a00 ∷ drive 34010 7 0x00000 ∷ drive 34106 4 0x04a00 ∷ drive 34120 7 0x00100 ∷ drive 34189 7 0x08100 ∷ drive 34285 4 0x00a00 ∷ drive 34299 7 0x00000 ∷ drive 34395 4 0x04a00 ∷ drive 34409 7 0x00100 ∷ drive 34478 7 0x08100 ∷ drive 34574 4 0x00a00 ∷ drive 34588 7 0x00000 ∷ drive 34684 4 0x04a00 ∷ drive 34698 7 0x00100 ∷ drive 34767 7 0x08100 ∷ drive 34863 4 0x00a00 ∷ drive 34877 7 0x00000 ∷ drive 34973 4 0x04a00 ∷ drive 34987 7 0x00100 ∷ drive 35056 7 0x08100 ∷ drive 35152 4 0x00a00 ∷ drive 35166 7 0x00000 ∷ drive 35262 4 0x03a00 ∷ drive 36158 4 0x03a04 ∷ drive 36309 4 0x07a04 ∷ drive 36323 7 0x08000 ∷ drive 36419 4 0x03a00 ∷ drive 36433 7 0x00000 ∷ drive 36529 4 0x00000 ∷ drive 37769 2 0x00204 ∷ drive 37825 4 0x00210 ∷ drive 40321 4 0x00610 ∷ drive 40361 2 0x00000 ∷ drive 41617 4 0x01790 ∷ drive 41803 4 0x01590 ∷ drive 42217 7 0x00200 ∷ drive 42313 4 0x01790 ∷ drive 42499 4 0x03a80 ∷ drive 42513 7 0x00000 ∷ drive 42995 4 0x07a80 ∷ drive 43009 7 0x08000 ∷ drive 43105 4 0x03a20 ∷ drive 43119 7 0x00000 ∷ drive 43256 4 0x07a20 ∷ drive 43270 7 0x08000 ∷ drive 43366 4 0x03bff ∷ drive 43380 7 0x00000 ∷ drive 43517 4 0x07bff ∷ drive 43531 7 0x08000 ∷ drive 43627 4 0x03a00 ∷ drive 43641 7 0x00000 ∷ drive 43737 4 0x01b00 ∷ drive 44233 4 0x05b00 ∷ drive 44247 7 0x08000 ∷ drive 44343 4 0x01a00 ∷ drive 44357 7 0x00000 ∷ drive 44453 4 0x03b00 ∷ drive 44949 4 0x07b00 ∷ strike 44949 7 0 ∷ drive 44963 7 0x18000 ∷ drive 45059 4 0x03a00 ∷ drive 45073 7 0x10000 ∷ drive 45169 4 0x02a00 ∷ drive 45665 4 0x06a00 ∷ drive 45679 7 0x00109 ∷ drive 45783 7 0x08109 ∷ drive 45879 4 0x02a00 ∷ drive 45893 7 0x00000 ∷ drive 45989 4 0x00000 ∷ drive 47229 2 0x00204 ∷ drive 49669 2 0x00604 ∷ drive 50909 2 0x10714 ∷ drive 51039 2 0x10514 ∷ drive 51535 4 0x00200 ∷ drive 51665 2 0x10000 ∷ drive 51761 4 0x02a00 ∷ drive 52257 4 0x06a00 ∷ drive 52297 2 0x101c0 ∷ drive 52392 2 0x181c0 ∷ drive 52488 4 0x02a00 ∷ drive 52528 2 0x10000 ∷ drive 52624 4 0x06a00 ∷ drive 52664 2 0x10122 ∷ drive 52759 2 0x18122 ∷ drive 52855 4 0x02a00 ∷ drive 52895 2 0x10000 ∷ drive 52991 4 0x06a00 ∷ drive 53031 2 0x00001 ∷ drive 53161 2 0x08001 ∷ drive 53257 4 0x02a00 ∷ drive 53297 2 0x00000 ∷ drive 53393 4 0x00a00 ∷ drive 53889 4 0x04a00 ∷ drive 53929 2 0x00008 ∷ drive 54024 2 0x08008 ∷ drive 54120 4 0x00a00 ∷ drive 54160 2 0x00000 ∷ drive 54256 4 0x04a00 ∷ drive 54296 2 0x00100 ∷ drive 54391 2 0x08100 ∷ drive 54487 4 0x00a00 ∷ drive 54527 2 0x00000 ∷ drive 54623 4 0x04a00 ∷ drive 54663 2 0x00100 ∷ drive 54758 2 0x08100 ∷ drive 54854 4 0x00a00 ∷ drive 54894 2 0x00000 ∷ drive 54990 4 0x04a00 ∷ drive 55030 2 0x00001 ∷ drive 55125 2 0x08001 ∷ drive 55221 4 0x00a00 ∷ drive 55261 2 0x00000 ∷ drive 55357 4 0x04a00 ∷ drive 55397 2 0x00103 ∷ drive 55492 2 0x08103 ∷ drive 55588 4 0x00a00 ∷ drive 55628 2 0x00000 ∷ drive 55724 4 0x04a00 ∷ drive 55764 2 0x00100 ∷ drive 55859 2 0x08100 ∷ drive 55955 4 0x00a00 ∷ drive 55995 2 0x00000 ∷ drive 56091 4 0x03a00 ∷ drive 56987 4 0x03a04 ∷ drive 57138 4 0x07a04 ∷ drive 57178 2 0x08000 ∷ drive 57274 4 0x03a00 ∷ drive 57314 2 0x00000 ∷ drive 57410 4 0x00000 ∷ drive 58650 2 0x00204 ∷ drive 58706 4 0x00210 ∷ drive 61202 4 0x00610 ∷ drive 61242 2 0x00000 ∷ drive 62498 4 0x01714 ∷ drive 62684 4 0x01514 ∷ drive 63124 2 0x00200 ∷ drive 63220 4 0x01714 ∷ drive 63406 4 0x03a80 ∷ drive 63446 2 0x00000 ∷ drive 63902 4 0x07a80 ∷ drive 63942 2 0x08000 ∷ drive 64038 4 0x03a20 ∷ drive 64078 2 0x00000 ∷ drive 64189 4 0x07a20 ∷ drive 64229 2 0x08000 ∷ drive 64325 4 0x03a01 ∷ drive 64365 2 0x00000 ∷ drive 64476 4 0x07a01 ∷ drive 64516 2 0x08000 ∷ drive 64612 4 0x03a00 ∷ drive 64652 2 0x00000 ∷ drive 64748 4 0x01300 ∷ drive 65244 4 0x05300 ∷ drive 65284 2 0x08000 ∷ drive 65380 4 0x01300 ∷ drive 65420 2 0x00000 ∷ drive 65531 4 0x05300 ∷ drive 65571 2 0x08000 ∷ drive 65667 4 0x01300 ∷ drive 65707 2 0x00000 ∷ drive 65818 4 0x05300 ∷ drive 65858 2 0x08000 ∷ drive 65954 4 0x01300 ∷ drive 65994 2 0x00000 ∷ drive 66105 4 0x05300 ∷ drive 66145 2 0x08000 ∷ drive 66241 4 0x01300 ∷ drive 66281 2 0x00000 ∷ drive 66392 4 0x05300 ∷ drive 66432 2 0x08000 ∷ drive 66528 4 0x01300 ∷ drive 66568 2 0x00000 ∷ drive 66679 4 0x05300 ∷ strike 66679 2 6 ∷ drive 66719 2 0x18000 ∷ drive 66815 4 0x01300 ∷ drive 66855 2 0x10000 ∷ drive 66966 4 0x05300 ∷ drive 67006 2 0x18000 ∷ drive 67102 4 0x01300 ∷ drive 67142 2 0x10000 ∷ drive 67253 4 0x05300 ∷ drive 67293 2 0x18000 ∷ drive 67389 4 0x01300 ∷ drive 67429 2 0x10000 ∷ drive 67540 4 0x05300 ∷ drive 67580 2 0x18000 ∷ drive 67676 4 0x01300 ∷ drive 67716 2 0x10000 ∷ drive 67827 4 0x05300 ∷ drive 67867 2 0x18000 ∷ drive 67963 4 0x01300 ∷ drive 68003 2 0x10000 ∷ drive 68114 4 0x05300 ∷ drive 68154 2 0x18000 ∷ drive 68250 4 0x01300 ∷ drive 68290 2 0x10000 ∷ drive 68401 4 0x05300 ∷ drive 68441 2 0x18000 ∷ drive 68537 4 0x01300 ∷ drive 68577 2 0x10000 ∷ drive 68688 4 0x05300 ∷ drive 68728 2 0x18000 ∷ drive 68824 4 0x01300 ∷ drive 68864 2 0x10000 ∷ drive 68975 4 0x05300 ∷ drive 69015 2 0x18000 ∷ drive 69111 4 0x01300 ∷ drive 69151 2 0x10000 ∷ drive 69262 4 0x05300 ∷ drive 69302 2 0x18000 ∷ drive 69398 4 0x01300 ∷ drive 69438 2 0x10000 ∷ drive 69549 4 0x05300 ∷ drive 69589 2 0x18000 ∷ drive 69685 4 0x01200 ∷ drive 69725 2 0x10000 ∷ drive 69821 4 0x02a00 ∷ drive 70317 4 0x06a00 ∷ drive 70357 2 0x00105 ∷ drive 70487 2 0x08105 ∷ drive 70583 4 0x02a00 ∷ drive 70623 2 0x00000 ∷ drive 70719 4 0x01a00 ∷ drive 71615 4 0x01a02 ∷ drive 71766 4 0x05a02 ∷ drive 71806 2 0x08000 ∷ drive 71902 4 0x01a00 ∷ drive 71942 2 0x00000 ∷ drive 72038 4 0x03b00 ∷ drive 72534 4 0x07b00 ∷ drive 72574 2 0x08000 ∷ drive 72670 4 0x03a00 ∷ drive 72710 2 0x00000 ∷ drive 72806 4 0x00000 ∷ drive 74046 2 0x00204 ∷ drive 76486 2 0x00604 ∷ drive 77726 2 0x10714 ∷ drive 77856 2 0x10514 ∷ strike 78352 4 4 ∷ drive 250077896 2 0x10400 ∷ drive 250278026 2 0x00000 ∷ drive 250279266 2 0x00204 ∷ drive 250281706 2 0x00604 ∷ drive 250282946 2 0x10714 ∷ drive 250283076 2 0x10514 ∷ drive 250283572 4 0x00200 ∷ drive 250283702 2 0x10000 ∷ drive 250283798 4 0x02a00 ∷ drive 250284294 4 0x06a00 ∷ drive 250284334 2 0x00080 ∷ drive 250284464 2 0x08080 ∷ drive 250284560 4 0x02a00 ∷ drive 250284600 2 0x00000 ∷ drive 250284696 4 0x00a00 ∷ drive 250285192 4 0x04a00 ∷ drive 250285232 2 0x00103 ∷ drive 250285327 2 0x08103 ∷ drive 250285423 4 0x00a00 ∷ drive 250285463 2 0x00000 ∷ drive 250285559 4 0x04a00 ∷ drive 250285599 2 0x00100 ∷ drive 250285694 2 0x08100 ∷ drive 250285790 4 0x00a00 ∷ drive 250285830 2 0x00000 ∷ drive 250285926 4 0x04a00 ∷ drive 250285966 2 0x00100 ∷ drive 250286061 2 0x08100 ∷ drive 250286157 4 0x00a00 ∷ drive 250286197 2 0x00000 ∷ drive 250286293 4 0x04a00 ∷ drive 250286333 2 0x00100 ∷ drive 250286428 2 0x08100 ∷ drive 250286524 4 0x00a00 ∷ drive 250286564 2 0x00000 ∷ drive 250286660 4 0x04a00 ∷ drive 250286700 2 0x00112 ∷ drive 250286795 2 0x08112 ∷ drive 250286891 4 0x00a00 ∷ drive 250286931 2 0x00000 ∷ drive 250287027 4 0x04a00 ∷ drive 250287067 2 0x00100 ∷ drive 250287162 2 0x08100 ∷ drive 250287258 4 0x00a00 ∷ drive 250287298 2 0x00000 ∷ drive 250287394 4 0x01200 ∷ drive 250288290 4 0x01270 ∷ drive 250288441 4 0x05270 ∷ drive 250288481 2 0x08000 ∷ drive 250288577 4 0x01300 ∷ drive 250288617 2 0x00000 ∷ drive 250288728 4 0x05300 ∷ drive 250288768 2 0x08000 ∷ drive 250288864 4 0x0120b ∷ drive 250288904 2 0x00000 ∷ drive 250289015 4 0x0520b ∷ drive 250289055 2 0x08000 ∷ drive 250289151 4 0x01300 ∷ drive 250289191 2 0x00000 ∷ drive 250289302 4 0x05300 ∷ drive 250289342 2 0x08000 ∷ drive 250289438 4 0x01300 ∷ drive 250289478 2 0x00000 ∷ drive 250289589 4 0x05300 ∷ drive 250289629 2 0x08000 ∷ drive 250289725 4 0x01300 ∷ drive 250289765 2 0x00000 ∷ drive 250289876 4 0x05300 ∷ drive 250289916 2 0x08000 ∷ drive 250290012 4 0x01300 ∷ drive 250290052 2 0x00000 ∷ drive 250290163 4 0x05300 ∷ drive 250290203 2 0x08000 ∷ drive 250290299 4 0x0130a ∷ drive 250290339 2 0x00000 ∷ drive 250290450 4 0x0530a ∷ drive 250290490 2 0x08000 ∷ drive 250290586 4 0x01300 ∷ drive 250290626 2 0x00000 ∷ drive 250290737 4 0x05300 ∷ drive 250290777 2 0x08000 ∷ drive 250290873 4 0x01300 ∷ drive 250290913 2 0x00000 ∷ drive 250291024 4 0x05300 ∷ drive 250291064 2 0x08000 ∷ drive 250291160 4 0x01300 ∷ drive 250291200 2 0x00000 ∷ drive 250291311 4 0x05300 ∷ drive 250291351 2 0x08000 ∷ drive 250291447 4 0x01300 ∷ drive 250291487 2 0x00000 ∷ drive 250291598 4 0x05300 ∷ drive 250291638 2 0x08000 ∷ drive 250291734 4 0x01348 ∷ drive 250291774 2 0x00000 ∷ drive 250291885 4 0x05348 ∷ drive 250291925 2 0x08000 ∷ drive 250292021 4 0x01300 ∷ drive 250292061 2 0x00000 ∷ drive 250292172 4 0x05300 ∷ drive 250292212 2 0x08000 ∷ drive 250292308 4 0x01300 ∷ drive 250292348 2 0x00000 ∷ drive 250292459 4 0x05300 ∷ drive 250292499 2 0x08000 ∷ drive 250292595 4 0x01300 ∷ drive 250292635 2 0x00000 ∷ drive 250292746 4 0x05300 ∷ drive 250292786 2 0x08000 ∷ drive 250292882 4 0x01300 ∷ drive 250292922 2 0x00000 ∷ drive 250293033 4 0x05300 ∷ drive 250293073 2 0x08000 ∷ drive 250293169 4 0x01300 ∷ drive 250293209 2 0x00000 ∷ drive 250293320 4 0x05300 ∷ drive 250293360 2 0x08000 ∷ drive 250293456 4 0x01200 ∷ drive 250293496 2 0x00000 ∷ drive 250293592 4 0x01b00 ∷ drive 250294088 4 0x05b00 ∷ drive 250294128 2 0x08000 ∷ drive 250294224 4 0x01a00 ∷ drive 250294264 2 0x00000 ∷ drive 250294360 4 0x03b00 ∷ drive 250294856 4 0x07b00 ∷ drive 250294896 2 0x08000 ∷ drive 250294992 4 0x03a00 ∷ drive 250295032 2 0x00000 ∷ drive 250295128 4 0x00000 ∷ drive 250296368 2 0x00204 ∷ drive 250298808 2 0x00604 ∷ drive 250300048 2 0x10714 ∷ drive 250300178 2 0x10514 ∷ drive 250300674 4 0x00200 ∷ drive 250300804 2 0x10000 ∷ drive 250300900 4 0x02a00 ∷ drive 250301396 4 0x06a00 ∷ drive 250301436 2 0x101c0 ∷ drive 250301531 2 0x181c0 ∷ drive 250301627 4 0x02a00 ∷ drive 250301667 2 0x10000 ∷ drive 250301763 4 0x06a00 ∷ drive 250301803 2 0x10122 ∷ drive 250301898 2 0x18122 ∷ drive 250301994 4 0x02a00 ∷ drive 250302034 2 0x10000 ∷ drive 250302130 4 0x06a00 ∷ drive 250302170 2 0x001ff ∷ drive 250302300 2 0x081ff ∷ drive 250302396 4 0x02a00 ∷ drive 250302436 2 0x00000 ∷ drive 250302532 4 0x00a00 ∷ drive 250303028 4 0x04a00 ∷ drive 250303068 2 0x00100 ∷ drive 250303163 2 0x08100 ∷ drive 250303259 4 0x00a00 ∷ drive 250303299 2 0x00000 ∷ drive 250303395 4 0x04a00 ∷ drive 250303435 2 0x00100 ∷ drive 250303530 2 0x08100 ∷ drive 250303626 4 0x00a00 ∷ drive 250303666 2 0x00000 ∷ drive 250303762 4 0x04a00 ∷ drive 250303802 2 0x00100 ∷ drive 250303897 2 0x08100 ∷ drive 250303993 4 0x00a00 ∷ drive 250304033 2 0x00000 ∷ drive 250304129 4 0x04a00 ∷ drive 250304169 2 0x00100 ∷ drive 250304264 2 0x08100 ∷ drive 250304360 4 0x00a00 ∷ drive 250304400 2 0x00000 ∷ drive 250304496 4 0x04a00 ∷ drive 250304536 2 0x00100 ∷ drive 250304631 2 0x08100 ∷ drive 250304727 4 0x00a00 ∷ drive 250304767 2 0x00000 ∷ drive 250304863 4 0x04a00 ∷ drive 250304903 2 0x00100 ∷ drive 250304998 2 0x08100 ∷ drive 250305094 4 0x00a00 ∷ drive 250305134 2 0x00000 ∷ drive 250305230 4 0x03a00 ∷ drive 250306126 4 0x03a04 ∷ drive 250306277 4 0x07a04 ∷ drive 250306317 2 0x08000 ∷ drive 250306413 4 0x03a00 ∷ drive 250306453 2 0x00000 ∷ drive 250306549 4 0x00000 ∷ drive 250307845 4 0x00210 ∷ drive 250310341 4 0x00610 ∷ drive 250311637 4 0x01714 ∷ drive 250311823 4 0x01514 ∷ drive 250312263 2 0x00200 ∷ drive 250312359 4 0x01714 ∷ drive 250312545 4 0x03a80 ∷ drive 250312585 2 0x00000 ∷ drive 250313041 4 0x07a80 ∷ drive 250313081 2 0x08000 ∷ drive 250313177 4 0x03a20 ∷ drive 250313217 2 0x00000 ∷ drive 250313328 4 0x07a20 ∷ drive 250313368 2 0x08000 ∷ drive 250313464 4 0x03bff ∷ drive 250313504 2 0x00000 ∷ drive 250313615 4 0x07bff ∷ drive 250313655 2 0x08000 ∷ drive 250313751 4 0x03a00 ∷ drive 250313791 2 0x00000 ∷ drive 250313887 4 0x01b00 ∷ drive 250314383 4 0x05b00 ∷ drive 250314423 2 0x08000 ∷ drive 250314519 4 0x01a00 ∷ drive 250314559 2 0x00000 ∷ drive 250314655 4 0x03b00 ∷ drive 250315151 4 0x07b00 ∷ drive 250315191 2 0x08000 ∷ drive 250315287 4 0x03a00 ∷ drive 250315327 2 0x00000 ∷ drive 250315423 4 0x00000 ∷ []

abbrev parity_errors_items : List Item
parity_errors_items = items.Connect 31538 (process 7 4 (Some 0) (Some 255) 1) false ∷ items.Out (to_target.Identify true 0) ∷ items.Out (to_target.SimpleTag 255) ∷ items.Cdb (0 ∷ 0 ∷ 0 ∷ 0 ∷ 0 ∷ 0 ∷ []) ∷ items.Arrive (process 7 4 (Some 0) (Some 255) 1) ∷ items.In to_initiator.Disconnect ∷ items.Free 36529 ∷ items.Connect 42499 (process 7 4 (Some 0) (Some 255) 1) true ∷ items.In (to_initiator.Identify 0) ∷ items.In (to_initiator.SimpleTag 255) ∷ items.Ready (process 7 4 (Some 0) (Some 255) 1) ∷ items.Status 0 ∷ items.Out to_target.ParityError ∷ items.Lost (process 7 4 (Some 0) (Some 255) 1) ∷ items.Free 45989 ∷ items.Connect 51665 (process 2 4 (Some 0) (Some 1) 1) false ∷ items.Out (to_target.Identify true 0) ∷ items.Out (to_target.OrderedTag 1) ∷ items.Cdb (8 ∷ 0 ∷ 0 ∷ 1 ∷ 3 ∷ 0 ∷ []) ∷ items.Arrive (process 2 4 (Some 0) (Some 1) 1) ∷ items.In to_initiator.Disconnect ∷ items.Free 57410 ∷ items.Connect 63406 (process 2 4 (Some 0) (Some 1) 1) true ∷ items.In (to_initiator.Identify 0) ∷ items.In (to_initiator.SimpleTag 1) ∷ items.Payload false 0 (0 ∷ 0 ∷ 0 ∷ 0 ∷ 0 ∷ 0 ∷ 0 ∷ 0 ∷ 0 ∷ 0 ∷ 0 ∷ 0 ∷ 0 ∷ 0 ∷ 0 ∷ 0 ∷ []) ∷ items.Out to_target.DetectedError ∷ items.Ready (process 2 4 (Some 0) (Some 1) 1) ∷ items.Status 2 ∷ items.In to_initiator.CommandComplete ∷ items.End (process 2 4 (Some 0) (Some 1) 1) (Some 2) ∷ items.Free 72806 ∷ items.Unanswered 250278026 2 4 ∷ items.Connect 250283702 (process 2 4 (Some 0) None 1) false ∷ items.Out (to_target.Identify false 0) ∷ items.Cdb (3 ∷ 0 ∷ 0 ∷ 0 ∷ 18 ∷ 0 ∷ []) ∷ items.Arrive (process 2 4 (Some 0) None 1) ∷ items.Payload false 0 (112 ∷ 0 ∷ 11 ∷ 0 ∷ 0 ∷ 0 ∷ 0 ∷ 10 ∷ 0 ∷ 0 ∷ 0 ∷ 0 ∷ 72 ∷ 0 ∷ 0 ∷ 0 ∷ 0 ∷ 0 ∷ []) ∷ items.Ready (process 2 4 (Some 0) None 1) ∷ items.Status 0 ∷ items.In to_initiator.CommandComplete ∷ items.End (process 2 4 (Some 0) None 1) (Some 0) ∷ items.Free 250295128 ∷ items.Connect 250300804 (process 2 4 (Some 0) (Some 255) 1) false ∷ items.Out (to_target.Identify true 0) ∷ items.Out (to_target.OrderedTag 255) ∷ items.Cdb (0 ∷ 0 ∷ 0 ∷ 0 ∷ 0 ∷ 0 ∷ []) ∷ items.Arrive (process 2 4 (Some 0) (Some 255) 1) ∷ items.In to_initiator.Disconnect ∷ items.Free 250306549 ∷ items.Connect 250312545 (process 2 4 (Some 0) (Some 255) 1) true ∷ items.In (to_initiator.Identify 0) ∷ items.In (to_initiator.SimpleTag 255) ∷ items.Ready (process 2 4 (Some 0) (Some 255) 1) ∷ items.Status 0 ∷ items.In to_initiator.CommandComplete ∷ items.End (process 2 4 (Some 0) (Some 255) 1) (Some 0) ∷ items.Free 250315423 ∷ []

parity_errors_told : transcript_of (reverse parity_errors_rows) ≡ parity_errors_items
unfolding ones union_below line_of form_out form_in by_change closed_by
parity_errors_told = refl

parity_errors_text : transcript_text parity_errors_items ≡ codes "transcript 1\nconnect 31538 7.4.0.255.1 first\nout c0\nout 20ff\ncommand 000000000000\narrive 7.4.0.255.1\nin 04\nfree 36529\nconnect 42499 7.4.0.255.1 again\nin 80\nin 20ff\nready 7.4.0.255.1\nstatus 00\nout 09\nlost 7.4.0.255.1\nfree 45989\nconnect 51665 2.4.0.1.1 first\nout c0\nout 2201\ncommand 080000010300\narrive 2.4.0.1.1\nin 04\nfree 57410\nconnect 63406 2.4.0.1.1 again\nin 80\nin 2001\ndatain 0 00000000000000000000000000000000\nout 05\nready 2.4.0.1.1\nstatus 02\nin 00\nend 2.4.0.1.1 02\nfree 72806\nunanswered 250278026 2 4\nconnect 250283702 2.4.0.-.1 first\nout 80\ncommand 030000001200\narrive 2.4.0.-.1\ndatain 0 70000b000000000a00000000480000000000\nready 2.4.0.-.1\n" ++ (codes "status 00\nin 00\nend 2.4.0.-.1 00\nfree 250295128\nconnect 250300804 2.4.0.255.1 first\nout c0\nout 22ff\ncommand 000000000000\narrive 2.4.0.255.1\nin 04\nfree 250306549\nconnect 250312545 2.4.0.255.1 again\nin 80\nin 20ff\nready 2.4.0.255.1\nstatus 00\nin 00\nend 2.4.0.255.1 00\nfree 250315423\ndone\n")
unfolding digits
parity_errors_text = refl

abbrev pub reconnected_and_aborted_rows : List Row
reconnected_and_aborted_rows = drive 2853 0 0x00201 ∷ drive 5353 0 0x00601 ∷ drive 6653 0 0x10703 ∷ drive 6843 0 0x10503 ∷ drive 7343 1 0x00200 ∷ drive 7533 0 0x10000 ∷ drive 7633 1 0x02a00 ∷ drive 8133 1 0x06a00 ∷ drive 8233 0 0x101c0 ∷ drive 8388 0 0x181c0 ∷ drive 8488 1 0x02a00 ∷ drive 8588 0 0x10000 ∷ drive 8688 1 0x06a00 ∷ drive 8788 0 0x10020 ∷ drive 8943 0 0x18020 ∷ drive 9043 1 0x02a00 ∷ drive 9143 0 0x10000 ∷ drive 9243 1 0x06a00 ∷ drive 9343 0 0x001ff ∷ drive 9533 0 0x081ff ∷ drive 9633 1 0x02a00 ∷ drive 9733 0 0x00000 ∷ drive 9833 1 0x00a00 ∷ drive 10333 1 0x04a00 ∷ drive 10433 0 0x00008 ∷ drive 10588 0 0x08008 ∷ drive 10688 1 0x00a00 ∷ drive 10788 0 0x00000 ∷ drive 10888 1 0x04a00 ∷ drive 10988 0 0x00100 ∷ drive 11143 0 0x08100 ∷ drive 11243 1 0x00a00 ∷ drive 11343 0 0x00000 ∷ drive 11443 1 0x04a00 ∷ drive 11543 0 0x00100 ∷ drive 11698 0 0x08100 ∷ drive 11798 1 0x00a00 ∷ drive 11898 0 0x00000 ∷ drive 11998 1 0x04a00 ∷ drive 12098 0 0x00100 ∷ drive 12253 0 0x08100 ∷ drive 12353 1 0x00a00 ∷ drive 12453 0 0x00000 ∷ drive 12553 1 0x04a00 ∷ drive 12653 0 0x00001 ∷ drive 12808 0 0x08001 ∷ drive 12908 1 0x00a00 ∷ drive 13008 0 0x00000 ∷ drive 13108 1 0x04a00 ∷ drive 13208 0 0x00100 ∷ drive 13363 0 0x08100 ∷ drive 13463 1 0x00a00 ∷ drive 13563 0 0x00000 ∷ drive 13663 1 0x03a00 ∷ drive 14563 1 0x03a04 ∷ drive 14718 1 0x07a04 ∷ drive 14818 0 0x08000 ∷ drive 14918 1 0x03a00 ∷ drive 15018 0 0x00000 ∷ drive 15118 1 0x00000 ∷ drive 16418 0 0x00201 ∷ drive 16763 1 0x00202 ∷ drive 19263 1 0x00602 ∷ drive 19363 0 0x00000 ∷ drive 20563 1 0x01703 ∷ drive 20753 1 0x01503 ∷ drive 21253 0 0x00200 ∷ drive 21353 1 0x01703 ∷ drive 21543 1 0x03a80 ∷ drive 21643 0 0x00000 ∷ drive 22043 1 0x07a80 ∷ drive 22143 0 0x08000 ∷ drive 22243 1 0x03a20 ∷ drive 22343 0 0x00000 ∷ drive 22443 1 0x07a20 ∷ drive 22543 0 0x08000 ∷ drive 22643 1 0x03bff ∷ drive 22743 0 0x00000 ∷ drive 22843 1 0x07bff ∷ drive 22943 0 0x08000 ∷ drive 23043 1 0x03a00 ∷ drive 23143 0 0x00000 ∷ drive 23243 1 0x01300 ∷ drive 23743 1 0x05300 ∷ drive 23843 0 0x08000 ∷ drive 23943 1 0x01300 ∷ drive 24043 0 0x00000 ∷ drive 24143 1 0x05300 ∷ drive 24243 0 0x08000 ∷ drive 24343 1 0x01300 ∷ drive 24443 0 0x00000 ∷ drive 24543 1 0x05300 ∷ drive 24643 0 0x08000 ∷ drive 24743 1 0x01300 ∷ drive 24843 0 0x00000 ∷ drive 24943 1 0x05300 ∷ drive 25043 0 0x08000 ∷ drive 25143 1 0x01300 ∷ drive 25243 0 0x00000 ∷ drive 25343 1 0x05300 ∷ drive 25443 0 0x08000 ∷ drive 25543 1 0x01300 ∷ drive 25643 0 0x00000 ∷ drive 25743 1 0x05300 ∷ drive 25843 0 0x08000 ∷ drive 25943 1 0x01300 ∷ drive 26043 0 0x00000 ∷ drive 26143 1 0x05300 ∷ drive 26243 0 0x08000 ∷ drive 26343 1 0x01300 ∷ drive 26443 0 0x00000 ∷ drive 26543 1 0x05300 ∷ drive 26643 0 0x08000 ∷ drive 26743 1 0x01300 ∷ drive 26843 0 0x00000 ∷ drive 26943 1 0x05300 ∷ drive 27043 0 0x08000 ∷ drive 27143 1 0x01300 ∷ drive 27243 0 0x00000 ∷ drive 27343 1 0x05300 ∷ drive 27443 0 0x08000 ∷ drive 27543 1 0x01300 ∷ drive 27643 0 0x00000 ∷ drive 27743 1 0x05300 ∷ drive 27843 0 0x08000 ∷ drive 27943 1 0x01300 ∷ drive 28043 0 0x00000 ∷ drive 28143 1 0x05300 ∷ drive 28243 0 0x08000 ∷ drive 28343 1 0x01300 ∷ drive 28443 0 0x00000 ∷ drive 28543 1 0x05300 ∷ drive 28643 0 0x08000 ∷ drive 28743 1 0x01300 ∷ drive 28843 0 0x00000 ∷ drive 28943 1 0x05300 ∷ drive 29043 0 0x08000 ∷ drive 29143 1 0x01300 ∷ drive 29243 0 0x00000 ∷ drive 29343 1 0x05300 ∷ drive 29443 0 0x08000 ∷ drive 29543 1 0x01300 ∷ drive 29643 0 0x00000 ∷ drive 29743 1 0x05300 ∷ drive 29843 0 0x08000 ∷ drive 29943 1 0x01200 ∷ drive 30043 0 0x00000 ∷ drive 30143 1 0x01b00 ∷ drive 30643 1 0x05b00 ∷ drive 30743 0 0x08000 ∷ drive 30843 1 0x01a00 ∷ drive 30943 0 0x00000 ∷ drive 31043 1 0x03b00 ∷ drive 31543 1 0x07b00 ∷ drive 31643 0 0x08000 ∷ drive 31743 1 0x03a00 ∷ drive 31843 0 0x00000 ∷ drive 31943 1 0x00000 ∷ drive 33243 0 0x00201 ∷ drive 35743 0 0x00601 ∷ drive 37043 0 0x10703 ∷ drive 37233 0 0x10503 ∷ drive 37733 1 0x00200 ∷ drive 37923 0 0x10000 ∷ drive 38023 1 0x02a00 ∷ drive 38523 1 0x06a00 ∷ drive 38623 0 0x10080 ∷ drive 38778 0 0x18080 ∷ drive 38878 1 0x02a00 ∷ drive 38978 0 0x10000 ∷ drive 39078 1 0x06a00 ∷ drive 39178 0 0x0010c ∷ drive 39368 0 0x0810c ∷ drive 39468 1 0x02a00 ∷ drive 39568 0 0x00000 ∷ drive 39668 1 0x00000 ∷ drive 40968 0 0x00201 ∷ drive 43468 0 0x00601 ∷ drive 44768 0 0x10703 ∷ drive 44958 0 0x10503 ∷ drive 45458 1 0x00200 ∷ drive 45648 0 0x10000 ∷ drive 45748 1 0x02a00 ∷ drive 46248 1 0x06a00 ∷ drive 46348 0 0x10080 ∷ drive 46503 0 0x18080 ∷ drive 46603 1 0x02a00 ∷ drive 46703 0 0x10000 ∷ drive 46803 1 0x06a00 ∷ drive 46903 0 0x0010c ∷ drive 47093 0 0x0810c ∷ drive 47193 1 0x02a00 ∷ drive 47293 0 0x00000 ∷ drive 47393 1 0x00000 ∷ drive 48693 0 0x00201 ∷ drive 51193 0 0x00601 ∷ drive 52493 0 0x10703 ∷ drive 52683 0 0x10503 ∷ drive 53183 1 0x00200 ∷ drive 53373 0 0x10000 ∷ drive 53473 1 0x02a00 ∷ drive 53973 1 0x06a00 ∷ drive 54073 0 0x10080 ∷ drive 54228 0 0x18080 ∷ drive 54328 1 0x02a00 ∷ drive 54428 0 0x10000 ∷ drive 54528 1 0x06a00 ∷ drive 54628 0 0x0000e ∷ drive 54818 0 0x0800e ∷ drive 54918 1 0x02a00 ∷ drive 55018 0 0x00000 ∷ drive 55118 1 0x00000 ∷ drive 56418 0 0x00201 ∷ drive 58918 0 0x00601 ∷ drive 60218 0 0x10741 ∷ drive 60408 0 0x10541 ∷ drive 118972470 0 0x20000 ∷ drive 118997570 0 0x00000 ∷ drive 118998870 0 0x00201 ∷ drive 119001370 0 0x00601 ∷ drive 119002670 0 0x10741 ∷ drive 119002860 0 0x10541 ∷ drive 369002960 0 0x10400 ∷ drive 369203150 0 0x00000 ∷ []

abbrev reconnected_and_aborted_items : List Item
reconnected_and_aborted_items = items.Connect 7533 (process 0 1 (Some 0) (Some 255) 1) false ∷ items.Out (to_target.Identify true 0) ∷ items.Out (to_target.SimpleTag 255) ∷ items.Cdb (8 ∷ 0 ∷ 0 ∷ 0 ∷ 1 ∷ 0 ∷ []) ∷ items.Arrive (process 0 1 (Some 0) (Some 255) 1) ∷ items.In to_initiator.Disconnect ∷ items.Free 15118 ∷ items.Connect 21543 (process 0 1 (Some 0) (Some 255) 1) true ∷ items.In (to_initiator.Identify 0) ∷ items.In (to_initiator.SimpleTag 255) ∷ items.Payload false 0 (0 ∷ 0 ∷ 0 ∷ 0 ∷ 0 ∷ 0 ∷ 0 ∷ 0 ∷ 0 ∷ 0 ∷ 0 ∷ 0 ∷ 0 ∷ 0 ∷ 0 ∷ 0 ∷ []) ∷ items.Ready (process 0 1 (Some 0) (Some 255) 1) ∷ items.Status 0 ∷ items.In to_initiator.CommandComplete ∷ items.End (process 0 1 (Some 0) (Some 255) 1) (Some 0) ∷ items.Free 31943 ∷ items.Connect 37923 (process 0 1 (Some 0) None 0) false ∷ items.Out (to_target.Identify false 0) ∷ items.Out to_target.DeviceReset ∷ items.Abort 0 1 (Some 0) aborts.Device ∷ items.Free 39668 ∷ items.Connect 45648 (process 0 1 (Some 0) None 0) false ∷ items.Out (to_target.Identify false 0) ∷ items.Out to_target.DeviceReset ∷ items.Abort 0 1 (Some 0) aborts.Device ∷ items.Free 47393 ∷ items.Connect 53373 (process 0 1 (Some 0) None 0) false ∷ items.Out (to_target.Identify false 0) ∷ items.Out to_target.ClearQueue ∷ items.Abort 0 1 (Some 0) aborts.WholeQueue ∷ items.Free 55118 ∷ items.Reset 0 ∷ items.Unanswered 369203150 0 6 ∷ []

reconnected_and_aborted_told : transcript_of (reverse reconnected_and_aborted_rows) ≡ reconnected_and_aborted_items
unfolding ones union_below line_of form_out form_in by_change closed_by
reconnected_and_aborted_told = refl

reconnected_and_aborted_text : transcript_text reconnected_and_aborted_items ≡ codes "transcript 1\nconnect 7533 0.1.0.255.1 first\nout c0\nout 20ff\ncommand 080000000100\narrive 0.1.0.255.1\nin 04\nfree 15118\nconnect 21543 0.1.0.255.1 again\nin 80\nin 20ff\ndatain 0 00000000000000000000000000000000\nready 0.1.0.255.1\nstatus 00\nin 00\nend 0.1.0.255.1 00\nfree 31943\nconnect 37923 0.1.0.-.0 first\nout 80\nout 0c\nabort 0 1 0 device\nfree 39668\nconnect 45648 0.1.0.-.0 first\nout 80\nout 0c\nabort 0 1 0 device\nfree 47393\nconnect 53373 0.1.0.-.0 first\nout 80\nout 0e\nabort 0 1 0 queue\nfree 55118\nreset 0\nunanswered 369203150 0 6\ndone\n"
unfolding digits
reconnected_and_aborted_text = refl

abbrev pub reselected_twice_rows : List Row
reselected_twice_rows = drive 1237 3 0x00208 ∷ drive 3674 3 0x00608 ∷ drive 4911 3 0x10728 ∷ drive 5038 3 0x10528 ∷ drive 5438 5 0x00200 ∷ drive 5565 3 0x10000 ∷ drive 5565 5 0x02a00 ∷ drive 5965 5 0x06a00 ∷ drive 6002 3 0x101c5 ∷ drive 6094 3 0x181c5 ∷ drive 6094 5 0x02a00 ∷ drive 6131 3 0x10000 ∷ drive 6131 5 0x06a00 ∷ drive 6168 3 0x10020 ∷ drive 6260 3 0x18020 ∷ drive 6260 5 0x02a00 ∷ drive 6297 3 0x10000 ∷ drive 6297 5 0x06a00 ∷ drive 6334 3 0x001ff ∷ drive 6461 3 0x081ff ∷ drive 6461 5 0x02a00 ∷ drive 6498 3 0x00000 ∷ drive 6498 5 0x00a00 ∷ drive 6898 5 0x04a00 ∷ drive 6935 3 0x00025 ∷ drive 7027 3 0x08025 ∷ drive 7027 5 0x00a00 ∷ drive 7064 3 0x00000 ∷ drive 7064 5 0x04a00 ∷ drive 7101 3 0x00100 ∷ drive 7193 3 0x08100 ∷ drive 7193 5 0x00a00 ∷ drive 7230 3 0x00000 ∷ drive 7230 5 0x04a00 ∷ drive 7267 3 0x00100 ∷ drive 7359 3 0x08100 ∷ drive 7359 5 0x00a00 ∷ drive 7396 3 0x00000 ∷ drive 7396 5 0x04a00 ∷ drive 7433 3 0x00100 ∷ drive 7525 3 0x08100 ∷ drive 7525 5 0x00a00 ∷ drive 7562 3 0x00000 ∷ drive 7562 5 0x04a00 ∷ drive 7599 3 0x00100 ∷ drive 7691 3 0x08100 ∷ drive 7691 5 0x00a00 ∷ drive 7728 3 0x00000 ∷ drive 7728 5 0x04a00 ∷ drive 7765 3 0x00100 ∷ drive 7857 3 0x08100 ∷ drive 7857 5 0x00a00 ∷ drive 7894 3 0x00000 ∷ drive 7894 5 0x04a00 ∷ drive 7931 3 0x00100 ∷ drive 8023 3 0x08100 ∷ drive 8023 5 0x00a00 ∷ drive 8060 3 0x00000 ∷ drive 8060 5 0x04a00 ∷ drive 8097 3 0x00100 ∷ drive 8189 3 0x08100 ∷ drive 8189 5 0x00a00 ∷ drive 8226 3 0x00000 ∷ drive 8226 5 0x04a00 ∷ drive 8263 3 0x00100 ∷ drive 8355 3 0x08100 ∷ drive 8355 5 0x00a00 ∷ drive 8392 3 0x00000 ∷ drive 8392 5 0x04a00 ∷ drive 8429 3 0x00100 ∷ drive 8521 3 0x08100 ∷ drive 8521 5 0x00a00 ∷ drive 8558 3 0x00000 ∷ drive 8558 5 0x03a00 ∷ drive 9358 5 0x03a04 ∷ drive 9413 5 0x07a04 ∷ drive 9450 3 0x08000 ∷ drive 9450 5 0x03a00 ∷ drive 9487 3 0x00000 ∷ drive 9487 5 0x00000 ∷ drive 10687 5 0x00220 ∷ drive 10724 3 0x00208 ∷ drive 13087 5 0x00620 ∷ drive 13124 3 0x00000 ∷ drive 14287 5 0x01728 ∷ drive 14377 5 0x01528 ∷ drive 14814 3 0x00200 ∷ drive 14814 5 0x01728 ∷ drive 14904 5 0x03a85 ∷ drive 14941 3 0x00000 ∷ drive 15304 5 0x07a85 ∷ drive 15341 3 0x08000 ∷ drive 15341 5 0x03a20 ∷ drive 15378 3 0x00000 ∷ drive 15396 5 0x07a20 ∷ drive 15433 3 0x08000 ∷ drive 15433 5 0x03bff ∷ drive 15470 3 0x00000 ∷ drive 15488 5 0x07bff ∷ drive 15525 3 0x08000 ∷ drive 15525 5 0x03a00 ∷ drive 15562 3 0x00000 ∷ drive 15562 5 0x01300 ∷ drive 15962 5 0x05300 ∷ drive 15999 3 0x08000 ∷ drive 15999 5 0x01300 ∷ drive 16036 3 0x00000 ∷ drive 16054 5 0x05300 ∷ drive 16091 3 0x08000 ∷ drive 16091 5 0x01300 ∷ drive 16128 3 0x00000 ∷ drive 16146 5 0x05300 ∷ drive 16183 3 0x08000 ∷ drive 16183 5 0x01300 ∷ drive 16220 3 0x00000 ∷ drive 16238 5 0x05300 ∷ drive 16275 3 0x08000 ∷ drive 16275 5 0x01300 ∷ drive 16312 3 0x00000 ∷ drive 16330 5 0x05300 ∷ drive 16367 3 0x08000 ∷ drive 16367 5 0x01300 ∷ drive 16404 3 0x00000 ∷ drive 16422 5 0x05300 ∷ drive 16459 3 0x08000 ∷ drive 16459 5 0x01300 ∷ drive 16496 3 0x00000 ∷ drive 16514 5 0x05300 ∷ drive 16551 3 0x08000 ∷ drive 16551 5 0x01210 ∷ drive 16588 3 0x00000 ∷ drive 16606 5 0x05210 ∷ drive 16643 3 0x08000 ∷ drive 16643 5 0x01200 ∷ drive 16680 3 0x00000 ∷ drive 16680 5 0x01b00 ∷ drive 17080 5 0x05b00 ∷ drive 17117 3 0x08000 ∷ drive 17117 5 0x01a00 ∷ drive 17154 3 0x00000 ∷ drive 17154 5 0x03b00 ∷ drive 17554 5 0x07b00 ∷ drive 17591 3 0x08000 ∷ drive 17591 5 0x03a00 ∷ drive 17628 3 0x00000 ∷ drive 17628 5 0x00000 ∷ drive 18865 3 0x00208 ∷ drive 21302 3 0x00608 ∷ drive 22539 3 0x10788 ∷ drive 22666 3 0x10588 ∷ drive 23129 7 0x00200 ∷ drive 23256 3 0x10000 ∷ drive 23319 7 0x02a00 ∷ drive 23782 7 0x06a00 ∷ drive 23819 3 0x000c2 ∷ drive 23946 3 0x080c2 ∷ drive 24009 7 0x02a00 ∷ drive 24046 3 0x00000 ∷ drive 24109 7 0x00a00 ∷ drive 24572 7 0x04a00 ∷ drive 24609 3 0x0000b ∷ drive 24701 3 0x0800b ∷ drive 24764 7 0x00a00 ∷ drive 24801 3 0x00000 ∷ drive 24864 7 0x04a00 ∷ drive 24901 3 0x00100 ∷ drive 24993 3 0x08100 ∷ drive 25056 7 0x00a00 ∷ drive 25093 3 0x00000 ∷ drive 25156 7 0x04a00 ∷ drive 25193 3 0x00100 ∷ drive 25285 3 0x08100 ∷ drive 25348 7 0x00a00 ∷ drive 25385 3 0x00000 ∷ drive 25448 7 0x04a00 ∷ drive 25485 3 0x00100 ∷ drive 25577 3 0x08100 ∷ drive 25640 7 0x00a00 ∷ drive 25677 3 0x00000 ∷ drive 25740 7 0x04a00 ∷ drive 25777 3 0x00100 ∷ drive 25869 3 0x08100 ∷ drive 25932 7 0x00a00 ∷ drive 25969 3 0x00000 ∷ drive 26032 7 0x04a00 ∷ drive 26069 3 0x00100 ∷ drive 26161 3 0x08100 ∷ drive 26224 7 0x00a00 ∷ drive 26261 3 0x00000 ∷ drive 26324 7 0x03a00 ∷ drive 27187 7 0x03a04 ∷ drive 27305 7 0x07a04 ∷ drive 27342 3 0x08000 ∷ drive 27405 7 0x03a00 ∷ drive 27442 3 0x00000 ∷ drive 27505 7 0x00000 ∷ drive 28768 7 0x00280 ∷ drive 31231 7 0x00680 ∷ drive 32494 7 0x01788 ∷ drive 32647 7 0x01588 ∷ drive 33084 3 0x00200 ∷ drive 33147 7 0x01788 ∷ drive 33300 7 0x03b82 ∷ drive 33337 3 0x00000 ∷ drive 33763 7 0x07b82 ∷ drive 33800 3 0x08000 ∷ drive 33863 7 0x03a00 ∷ drive 33900 3 0x00000 ∷ drive 33963 7 0x01a02 ∷ drive 34426 7 0x05a02 ∷ drive 34463 3 0x08000 ∷ drive 34526 7 0x01a00 ∷ drive 34563 3 0x00000 ∷ drive 34626 7 0x03b00 ∷ drive 35089 7 0x07b00 ∷ drive 35126 3 0x08000 ∷ drive 35189 7 0x03a00 ∷ drive 35226 3 0x00000 ∷ drive 35289 7 0x00000 ∷ drive 36526 3 0x00208 ∷ drive 37085 5 0x20000 ∷ drive 37122 3 0x00000 ∷ drive 62085 5 0x00000 ∷ drive 62613 3 0x20000 ∷ drive 87650 3 0x00000 ∷ []

abbrev reselected_twice_items : List Item
reselected_twice_items = items.Connect 5565 (process 3 5 (Some 5) (Some 255) 1) false ∷ items.Out (to_target.Identify true 5) ∷ items.Out (to_target.SimpleTag 255) ∷ items.Cdb (37 ∷ 0 ∷ 0 ∷ 0 ∷ 0 ∷ 0 ∷ 0 ∷ 0 ∷ 0 ∷ 0 ∷ []) ∷ items.Arrive (process 3 5 (Some 5) (Some 255) 1) ∷ items.In to_initiator.Disconnect ∷ items.Free 9487 ∷ items.Connect 14904 (process 3 5 (Some 5) (Some 255) 1) true ∷ items.In (to_initiator.Identify 5) ∷ items.In (to_initiator.SimpleTag 255) ∷ items.Payload false 0 (0 ∷ 0 ∷ 0 ∷ 0 ∷ 0 ∷ 0 ∷ 0 ∷ 16 ∷ []) ∷ items.Ready (process 3 5 (Some 5) (Some 255) 1) ∷ items.Status 0 ∷ items.In to_initiator.CommandComplete ∷ items.End (process 3 5 (Some 5) (Some 255) 1) (Some 0) ∷ items.Free 17628 ∷ items.Connect 23256 (process 3 7 (Some 2) None 1) false ∷ items.Out (to_target.Identify true 2) ∷ items.Cdb (11 ∷ 0 ∷ 0 ∷ 0 ∷ 0 ∷ 0 ∷ []) ∷ items.Arrive (process 3 7 (Some 2) None 1) ∷ items.In to_initiator.Disconnect ∷ items.Free 27505 ∷ items.Connect 33300 (process 3 7 (Some 2) None 1) true ∷ items.In (to_initiator.Identify 2) ∷ items.Ready (process 3 7 (Some 2) None 1) ∷ items.Status 2 ∷ items.In to_initiator.CommandComplete ∷ items.End (process 3 7 (Some 2) None 1) (Some 2) ∷ items.Free 35289 ∷ items.Reset 5 ∷ items.Reset 3 ∷ []

reselected_twice_told : transcript_of (reverse reselected_twice_rows) ≡ reselected_twice_items
unfolding ones union_below line_of form_out form_in by_change closed_by
reselected_twice_told = refl

reselected_twice_text : transcript_text reselected_twice_items ≡ codes "transcript 1\nconnect 5565 3.5.5.255.1 first\nout c5\nout 20ff\ncommand 25000000000000000000\narrive 3.5.5.255.1\nin 04\nfree 9487\nconnect 14904 3.5.5.255.1 again\nin 85\nin 20ff\ndatain 0 0000000000000010\nready 3.5.5.255.1\nstatus 00\nin 00\nend 3.5.5.255.1 00\nfree 17628\nconnect 23256 3.7.2.-.1 first\nout c2\ncommand 0b0000000000\narrive 3.7.2.-.1\nin 04\nfree 27505\nconnect 33300 3.7.2.-.1 again\nin 82\nready 3.7.2.-.1\nstatus 02\nin 00\nend 3.7.2.-.1 02\nfree 35289\nreset 5\nreset 3\ndone\n"
unfolding digits
reselected_twice_text = refl

abbrev pub reset_after_an_end_rows : List Row
reset_after_an_end_rows = drive 1200 1 0x00202 ∷ drive 3600 1 0x00602 ∷ drive 4800 1 0x10742 ∷ drive 4890 1 0x10542 ∷ drive 5290 6 0x00200 ∷ drive 5380 1 0x10000 ∷ drive 5380 6 0x02a00 ∷ drive 5780 6 0x06a00 ∷ drive 5780 1 0x101c5 ∷ drive 5835 1 0x181c5 ∷ drive 5835 6 0x02a00 ∷ drive 5835 1 0x10000 ∷ drive 5835 6 0x06a00 ∷ drive 5835 1 0x10020 ∷ drive 5890 1 0x18020 ∷ drive 5890 6 0x02a00 ∷ drive 5890 1 0x10000 ∷ drive 5890 6 0x06a00 ∷ drive 5890 1 0x00100 ∷ drive 5980 1 0x08100 ∷ drive 5980 6 0x02a00 ∷ drive 5980 1 0x00000 ∷ drive 5980 6 0x00a00 ∷ drive 6380 6 0x04a00 ∷ drive 6380 1 0x00100 ∷ drive 6435 1 0x08100 ∷ strike 6435 6 1 ∷ drive 6435 6 0x00a00 ∷ drive 6435 1 0x00000 ∷ drive 6435 6 0x01a00 ∷ drive 7235 6 0x01a02 ∷ drive 7290 6 0x05a02 ∷ drive 7290 1 0x08000 ∷ drive 7290 6 0x01a00 ∷ drive 7290 1 0x00000 ∷ drive 7290 6 0x03b00 ∷ drive 7690 6 0x07b00 ∷ drive 7690 1 0x08000 ∷ drive 7690 6 0x03a00 ∷ drive 7690 1 0x00000 ∷ drive 7690 6 0x00000 ∷ drive 8855 2 0x20000 ∷ drive 33855 2 0x00000 ∷ []

abbrev reset_after_an_end_items : List Item
reset_after_an_end_items = items.Connect 5380 (process 1 6 (Some 5) (Some 0) 1) false ∷ items.Out (to_target.Identify true 5) ∷ items.Out (to_target.SimpleTag 0) ∷ items.Cdb (0 ∷ []) ∷ items.Ready (process 1 6 (Some 5) (Some 0) 1) ∷ items.Status 2 ∷ items.In to_initiator.CommandComplete ∷ items.End (process 1 6 (Some 5) (Some 0) 1) (Some 2) ∷ items.Free 7690 ∷ items.Reset 2 ∷ []

reset_after_an_end_told : transcript_of (reverse reset_after_an_end_rows) ≡ reset_after_an_end_items
unfolding ones union_below line_of form_out form_in by_change closed_by
reset_after_an_end_told = refl

reset_after_an_end_text : transcript_text reset_after_an_end_items ≡ codes "transcript 1\nconnect 5380 1.6.5.0.1 first\nout c5\nout 2000\ncommand 00\nready 1.6.5.0.1\nstatus 02\nin 00\nend 1.6.5.0.1 02\nfree 7690\nreset 2\ndone\n"
unfolding digits
reset_after_an_end_text = refl

abbrev pub reset_in_a_connection_rows : List Row
reset_in_a_connection_rows = drive 70284 4 0x00210 ∷ drive 72684 4 0x00610 ∷ drive 73884 4 0x10712 ∷ drive 73974 4 0x10512 ∷ drive 74374 1 0x00200 ∷ drive 74464 4 0x10000 ∷ drive 74464 1 0x02a00 ∷ drive 74864 1 0x06a00 ∷ drive 74864 4 0x10182 ∷ drive 74919 4 0x18182 ∷ drive 74919 1 0x02a00 ∷ drive 74919 4 0x10000 ∷ drive 74919 1 0x06a00 ∷ drive 74919 4 0x00106 ∷ drive 75009 4 0x08106 ∷ drive 75009 1 0x02a00 ∷ drive 75009 4 0x00000 ∷ drive 75009 1 0x00000 ∷ drive 76209 4 0x00210 ∷ drive 78354 6 0x20000 ∷ drive 78354 4 0x00000 ∷ drive 103354 6 0x00000 ∷ drive 104554 4 0x00210 ∷ drive 106954 4 0x00610 ∷ drive 108154 4 0x10750 ∷ drive 108244 4 0x10550 ∷ strike 108644 6 0 ∷ drive 250108244 4 0x10400 ∷ drive 250308334 4 0x00000 ∷ []

abbrev reset_in_a_connection_items : List Item
reset_in_a_connection_items = items.Connect 74464 (process 4 1 (Some 2) None 0) false ∷ items.Out (to_target.Identify false 2) ∷ items.Out to_target.Abort ∷ items.Abort 4 1 (Some 2) aborts.All ∷ items.Free 75009 ∷ items.Reset 6 ∷ items.Unanswered 250308334 4 6 ∷ []

reset_in_a_connection_told : transcript_of (reverse reset_in_a_connection_rows) ≡ reset_in_a_connection_items
unfolding ones union_below line_of form_out form_in by_change closed_by
reset_in_a_connection_told = refl

reset_in_a_connection_text : transcript_text reset_in_a_connection_items ≡ codes "transcript 1\nconnect 74464 4.1.2.-.0 first\nout 82\nout 06\nabort 4 1 2 all\nfree 75009\nreset 6\nunanswered 250308334 4 6\ndone\n"
unfolding digits
reset_in_a_connection_text = refl
