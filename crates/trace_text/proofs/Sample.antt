-- The texts, computed on a small run: two rows, two events, a reply, a block and a tape; and replies with senses.
use Rattle.std.proofs.Common.{◌≡◌, List, [], ◌∷◌, true, false, Some, None, refl}
use Rattle.std.specs.Prelude.{codes, Ok, Err}
use Rattle.std.specs.Fmt.{digits}
use Rattle.bus_trace.specs.LineSet.{set_of}
use Rattle.bus_trace.specs.declared.Kind.TheVariants.{Drives, Fault}
use Rattle.bus_base.specs.declared.Event.TheVariants.{Accept, End}
use Rattle.run_record.specs.declared.outcome.Outcome.{Outcome}
use Rattle.run_record.specs.declared.outcome.Outcome.TheVariants.{Good, Check}
use Rattle.run_record.specs.Value.{RunValue}
use Rattle.cdb_codec.specs.Replies.{plain_sense}
use Rattle.array_model.specs.Reels.{block, filemark, blank_reel}
use Rattle.array_model.specs.Execution.{tape_contents}
use Rattle.text_words.specs.Words.{after, number_at}
use Rattle.trace_text.specs.ReplyText.{replies_text}
use Rattle.trace_text.specs.ReportText.{report_text}
use Rattle.trace_text.specs.Lines.{row_at, end_at}
use Rattle.trace_text.specs.Whole.{trace_of}

abbrev sample : RunValue
sample = record {
  rows = record { time = 4800; dev = 7; kind = Drives (set_of 0x1078a) }
      ∷ record { time = 7055; dev = 0; kind = Fault 8 } ∷ [];
  end = 7055;
  history = Accept (record { command = 1; sense = false }) ∷ End (record { command = 12; sense = true }) 2 ∷ [];
  replies = Good (0x0a ∷ 0xff ∷ []) ∷ [];
  disks = record {
    count = 4294967296;
    size = 2;
    touched = (0, 0 ∷ 0 ∷ []) ∷ (4294967295, 1 ∷ 0xa2 ∷ []) ∷ [];
    reel = None;
  } ∷ [];
  tapes = tape_contents (record {
    capacity = 12;
    size = 2;
    reel = record { objects = block (0x41 ∷ 0 ∷ []) ∷ filemark ∷ block (0 ∷ 0 ∷ []) ∷ []; position = 2 };
  }) ∷ tape_contents (record { capacity = 1; size = 2; reel = blank_reel }) ∷ [];
}

report_of_sample : report_text ((3, 0) ∷ []) ((3, 1) ∷ (4, 0) ∷ []) sample ≡ codes
    "trace 1\n4800 7 1078a\n7055 0 f8\nend 7055\nhistory\naccept 1\nend 12S 02\nreplies\ncmd 1 GOOD 0aff\nblocks\nblock 3 0 4294967295 01a2\ntape 3 1 2\nobject 3 1 0 4100\nobject 3 1 1 mark\nobject 3 1 2 0000\ntape 4 0 0\ndone\n"
unfolding digits
report_of_sample = refl

-- a sense of a disk, two of a tape that met a filemark and the end of data, and none
abbrev checked : List Outcome
checked = Check (Some (plain_sense 0x05 0x24 0x00))
    ∷ Check (Some (record { key = 0x00; asc = 0x00; ascq = 0x01; marks = 0x80; residue = Some 4094 }))
    ∷ Check (Some (record { key = 0x08; asc = 0x00; ascq = 0x05; marks = 0x00; residue = Some 1 })) ∷ Check None ∷ []

text_of_checked : replies_text 9 checked ≡ codes
    "cmd 9 CHECK 052400\ncmd 10 CHECK 000001 80 4094\ncmd 11 CHECK 080005 00 1\ncmd 12 CHECK none\n"
unfolding digits
text_of_checked = refl

-- the front of the report read as a trace, and two texts that break the form
trace_of_report : trace_of (codes "trace 1\n4800 7 1078a\n7055 0 f8\nend 7055\nhistory\naccept 1\nend")
    ≡ Ok (sample.rows, 7055)
unfolding after number_at row_at end_at
trace_of_report = refl

no_fault_line : trace_of (codes "trace 1\n4800 7 1078a\n7055 0 f9\nend 7055\n") ≡ Err 3
unfolding after number_at row_at end_at
no_fault_line = refl

over_too_early : trace_of (codes "trace 1\n4800 7 1078a\n") ≡ Err 3
unfolding after number_at row_at end_at
over_too_early = refl
