-- Commands of whole runs, carried out by the definition of a tape and computed: replies, sense data, objects and
-- position are those of reports and traces which an independent simulator printed. Written by
-- tools/makers/tape_case.py.
use Rattle.std.proofs.Common.{ℕ, ◌≡◌, List, [], ◌∷◌, refl}
use Rattle.std.specs.Prelude.{Some, Bool, true, false, ◌==◌, if◌then◌else◌}
use Rattle.cdb_codec.specs.declared.status.TheConstants.{CHECK_CONDITION}
use Rattle.cdb_codec.specs.Replies.{plain_sense, sense_data}
use Rattle.array_model.specs.Execution.{Reply, good}
use Rattle.array_model.specs.Reels.{block, filemark}
use Rattle.array_model.specs.TapeExecution.{Tape, check_after}
use Rattle.tape_unit.specs.Tape.{blank_tape, with_objects, tape_after, tape_reply, is_changed, taken_now}

-- A command and the bytes that it sends.
record Step : Type 0 where
  cdb : List ℕ
  sent : List ℕ

abbrev replies : Tape → List Step → List Reply
replies t [] = []
replies t (s ∷ steps) = tape_reply t s.cdb ∷ replies (tape_after t s.cdb s.sent) steps

abbrev changes : Tape → List Step → List Bool
changes t [] = []
changes t (s ∷ steps) = is_changed t s.cdb ∷ changes (tape_after t s.cdb s.sent) steps

abbrev taken : Tape → List Step → List ℕ
taken t [] = []
taken t (s ∷ steps) = taken_now t s.cdb ∷ taken (tape_after t s.cdb s.sent) steps

abbrev left : Tape → List Step → Tape
left t [] = t
left t (s ∷ steps) = left (tape_after t s.cdb s.sent) steps

-- The sense data of those that end with CHECK CONDITION.
abbrev senses : List Reply → List (List ℕ)
senses [] = []
senses (r ∷ given) = if r.status == CHECK_CONDITION then sense_data r.sense ∷ senses given else senses given

-- ---- end_of_medium

abbrev end_of_medium : Tape
end_of_medium = with_objects (blank_tape 4 16) ([])

abbrev end_of_medium_steps : List Step
end_of_medium_steps = record { cdb = (10 ∷ 1 ∷ 0 ∷ 0 ∷ 5 ∷ 0 ∷ []); sent = (0 ∷ 1 ∷ 2 ∷ 3 ∷ 4 ∷ 5 ∷ 6 ∷ 7 ∷ 8 ∷ 9 ∷ 10 ∷ 11 ∷ 12 ∷ 13 ∷ 14 ∷ 15 ∷ 16 ∷ 17 ∷ 18 ∷ 19 ∷ 20 ∷ 21 ∷ 22 ∷ 23 ∷ 24 ∷ 25 ∷ 26 ∷ 27 ∷ 28 ∷ 29 ∷ 30 ∷ 31 ∷ 32 ∷ 33 ∷ 34 ∷ 35 ∷ 36 ∷ 37 ∷ 38 ∷ 39 ∷ 40 ∷ 41 ∷ 42 ∷ 43 ∷ 44 ∷ 45 ∷ 46 ∷ 47 ∷ 48 ∷ 49 ∷ 50 ∷ 51 ∷ 52 ∷ 53 ∷ 54 ∷ 55 ∷ 56 ∷ 57 ∷ 58 ∷ 59 ∷ 60 ∷ 61 ∷ 62 ∷ 63 ∷ 64 ∷ 65 ∷ 66 ∷ 67 ∷ 68 ∷ 69 ∷ 70 ∷ 71 ∷ 72 ∷ 73 ∷ 74 ∷ 75 ∷ 76 ∷ 77 ∷ 78 ∷ 79 ∷ []) } ∷ record { cdb = (10 ∷ 1 ∷ 0 ∷ 0 ∷ 4 ∷ 0 ∷ []); sent = (0 ∷ 1 ∷ 2 ∷ 3 ∷ 4 ∷ 5 ∷ 6 ∷ 7 ∷ 8 ∷ 9 ∷ 10 ∷ 11 ∷ 12 ∷ 13 ∷ 14 ∷ 15 ∷ 16 ∷ 17 ∷ 18 ∷ 19 ∷ 20 ∷ 21 ∷ 22 ∷ 23 ∷ 24 ∷ 25 ∷ 26 ∷ 27 ∷ 28 ∷ 29 ∷ 30 ∷ 31 ∷ 32 ∷ 33 ∷ 34 ∷ 35 ∷ 36 ∷ 37 ∷ 38 ∷ 39 ∷ 40 ∷ 41 ∷ 42 ∷ 43 ∷ 44 ∷ 45 ∷ 46 ∷ 47 ∷ 48 ∷ 49 ∷ 50 ∷ 51 ∷ 52 ∷ 53 ∷ 54 ∷ 55 ∷ 56 ∷ 57 ∷ 58 ∷ 59 ∷ 60 ∷ 61 ∷ 62 ∷ 63 ∷ []) } ∷ record { cdb = (10 ∷ 1 ∷ 0 ∷ 0 ∷ 1 ∷ 0 ∷ []); sent = (153 ∷ 154 ∷ 155 ∷ 156 ∷ 157 ∷ 158 ∷ 159 ∷ 160 ∷ 161 ∷ 162 ∷ 163 ∷ 164 ∷ 165 ∷ 166 ∷ 167 ∷ 168 ∷ []) } ∷ record { cdb = (16 ∷ 0 ∷ 0 ∷ 0 ∷ 1 ∷ 0 ∷ []); sent = ([]) } ∷ record { cdb = (10 ∷ 1 ∷ 0 ∷ 0 ∷ 0 ∷ 0 ∷ []); sent = ([]) } ∷ record { cdb = (16 ∷ 0 ∷ 0 ∷ 0 ∷ 0 ∷ 0 ∷ []); sent = ([]) } ∷ record { cdb = (17 ∷ 0 ∷ 255 ∷ 255 ∷ 255 ∷ 0 ∷ []); sent = ([]) } ∷ record { cdb = (16 ∷ 0 ∷ 0 ∷ 0 ∷ 1 ∷ 0 ∷ []); sent = ([]) } ∷ record { cdb = (8 ∷ 1 ∷ 0 ∷ 0 ∷ 1 ∷ 0 ∷ []); sent = ([]) } ∷ []

end_of_medium_replies : replies end_of_medium end_of_medium_steps ≡ (check_after ([]) (record { key = 13; asc = 0; ascq = 2; marks = 64; residue = Some 5 })) ∷ (good ([])) ∷ (check_after ([]) (record { key = 13; asc = 0; ascq = 2; marks = 64; residue = Some 1 })) ∷ (check_after ([]) (record { key = 13; asc = 0; ascq = 2; marks = 64; residue = Some 1 })) ∷ (good ([])) ∷ (good ([])) ∷ (good ([])) ∷ (good ([])) ∷ (check_after ([]) (record { key = 8; asc = 0; ascq = 5; marks = 0; residue = Some 1 })) ∷ []
end_of_medium_replies = refl

end_of_medium_senses : senses (replies end_of_medium end_of_medium_steps) ≡ (240 ∷ 0 ∷ 77 ∷ 0 ∷ 0 ∷ 0 ∷ 5 ∷ 10 ∷ 0 ∷ 0 ∷ 0 ∷ 0 ∷ 0 ∷ 2 ∷ 0 ∷ 0 ∷ 0 ∷ 0 ∷ []) ∷ (240 ∷ 0 ∷ 77 ∷ 0 ∷ 0 ∷ 0 ∷ 1 ∷ 10 ∷ 0 ∷ 0 ∷ 0 ∷ 0 ∷ 0 ∷ 2 ∷ 0 ∷ 0 ∷ 0 ∷ 0 ∷ []) ∷ (240 ∷ 0 ∷ 77 ∷ 0 ∷ 0 ∷ 0 ∷ 1 ∷ 10 ∷ 0 ∷ 0 ∷ 0 ∷ 0 ∷ 0 ∷ 2 ∷ 0 ∷ 0 ∷ 0 ∷ 0 ∷ []) ∷ (240 ∷ 0 ∷ 8 ∷ 0 ∷ 0 ∷ 0 ∷ 1 ∷ 10 ∷ 0 ∷ 0 ∷ 0 ∷ 0 ∷ 0 ∷ 5 ∷ 0 ∷ 0 ∷ 0 ∷ 0 ∷ []) ∷ []
end_of_medium_senses = refl

end_of_medium_changes : changes end_of_medium end_of_medium_steps ≡ false ∷ true ∷ false ∷ false ∷ true ∷ true ∷ true ∷ true ∷ true ∷ []
end_of_medium_changes = refl

end_of_medium_taken : taken end_of_medium end_of_medium_steps ≡ 0 ∷ 64 ∷ 0 ∷ 0 ∷ 0 ∷ 0 ∷ 0 ∷ 0 ∷ 0 ∷ []
end_of_medium_taken = refl

end_of_medium_tape : left end_of_medium end_of_medium_steps ≡ record {
  capacity = 4;
  size = 16;
  reel = record { objects = block (0 ∷ 1 ∷ 2 ∷ 3 ∷ 4 ∷ 5 ∷ 6 ∷ 7 ∷ 8 ∷ 9 ∷ 10 ∷ 11 ∷ 12 ∷ 13 ∷ 14 ∷ 15 ∷ []) ∷ block (16 ∷ 17 ∷ 18 ∷ 19 ∷ 20 ∷ 21 ∷ 22 ∷ 23 ∷ 24 ∷ 25 ∷ 26 ∷ 27 ∷ 28 ∷ 29 ∷ 30 ∷ 31 ∷ []) ∷ block (32 ∷ 33 ∷ 34 ∷ 35 ∷ 36 ∷ 37 ∷ 38 ∷ 39 ∷ 40 ∷ 41 ∷ 42 ∷ 43 ∷ 44 ∷ 45 ∷ 46 ∷ 47 ∷ []) ∷ filemark ∷ []; position = 4 };
}
end_of_medium_tape = refl

-- ---- fields

abbrev fields : Tape
fields = with_objects (blank_tape 12 16) (block (65 ∷ 65 ∷ 65 ∷ 65 ∷ 65 ∷ 65 ∷ 65 ∷ 65 ∷ 65 ∷ 65 ∷ 65 ∷ 65 ∷ 65 ∷ 65 ∷ 65 ∷ 65 ∷ []) ∷ block (66 ∷ 66 ∷ 66 ∷ 66 ∷ 66 ∷ 66 ∷ 66 ∷ 66 ∷ 66 ∷ 66 ∷ 66 ∷ 66 ∷ 66 ∷ 66 ∷ 66 ∷ 66 ∷ []) ∷ filemark ∷ block (67 ∷ 67 ∷ 67 ∷ 67 ∷ 67 ∷ 67 ∷ 67 ∷ 67 ∷ 67 ∷ 67 ∷ 67 ∷ 67 ∷ 67 ∷ 67 ∷ 67 ∷ 67 ∷ []) ∷ filemark ∷ filemark ∷ block (68 ∷ 68 ∷ 68 ∷ 68 ∷ 68 ∷ 68 ∷ 68 ∷ 68 ∷ 68 ∷ 68 ∷ 68 ∷ 68 ∷ 68 ∷ 68 ∷ 68 ∷ 68 ∷ []) ∷ [])

abbrev fields_steps : List Step
fields_steps = record { cdb = (8 ∷ 0 ∷ 0 ∷ 0 ∷ 1 ∷ 0 ∷ []); sent = ([]) } ∷ record { cdb = (10 ∷ 0 ∷ 0 ∷ 0 ∷ 1 ∷ 0 ∷ []); sent = ([]) } ∷ record { cdb = (8 ∷ 3 ∷ 0 ∷ 0 ∷ 1 ∷ 0 ∷ []); sent = ([]) } ∷ record { cdb = (8 ∷ 9 ∷ 0 ∷ 0 ∷ 1 ∷ 0 ∷ []); sent = ([]) } ∷ record { cdb = (17 ∷ 2 ∷ 0 ∷ 0 ∷ 1 ∷ 0 ∷ []); sent = ([]) } ∷ record { cdb = (17 ∷ 5 ∷ 0 ∷ 0 ∷ 1 ∷ 0 ∷ []); sent = ([]) } ∷ record { cdb = (16 ∷ 2 ∷ 0 ∷ 0 ∷ 1 ∷ 0 ∷ []); sent = ([]) } ∷ record { cdb = (1 ∷ 2 ∷ 0 ∷ 0 ∷ 0 ∷ 0 ∷ []); sent = ([]) } ∷ record { cdb = (1 ∷ 0 ∷ 0 ∷ 0 ∷ 1 ∷ 0 ∷ []); sent = ([]) } ∷ record { cdb = (0 ∷ 1 ∷ 0 ∷ 0 ∷ 0 ∷ 0 ∷ []); sent = ([]) } ∷ record { cdb = (8 ∷ 1 ∷ 0 ∷ 0 ∷ 1 ∷ 1 ∷ []); sent = ([]) } ∷ record { cdb = (8 ∷ 225 ∷ 0 ∷ 0 ∷ 1 ∷ 0 ∷ []); sent = ([]) } ∷ record { cdb = (1 ∷ 225 ∷ 0 ∷ 0 ∷ 0 ∷ 0 ∷ []); sent = ([]) } ∷ record { cdb = (16 ∷ 225 ∷ 0 ∷ 0 ∷ 0 ∷ 0 ∷ []); sent = ([]) } ∷ record { cdb = (17 ∷ 32 ∷ 0 ∷ 0 ∷ 0 ∷ 0 ∷ []); sent = ([]) } ∷ record { cdb = (40 ∷ 0 ∷ 0 ∷ 0 ∷ 0 ∷ 0 ∷ 0 ∷ 0 ∷ 1 ∷ 0 ∷ []); sent = ([]) } ∷ record { cdb = (37 ∷ 0 ∷ 0 ∷ 0 ∷ 0 ∷ 0 ∷ 0 ∷ 0 ∷ 0 ∷ 0 ∷ []); sent = ([]) } ∷ record { cdb = (26 ∷ 0 ∷ 0 ∷ 0 ∷ 0 ∷ 0 ∷ []); sent = ([]) } ∷ record { cdb = (3 ∷ 1 ∷ 0 ∷ 0 ∷ 18 ∷ 0 ∷ []); sent = ([]) } ∷ record { cdb = (18 ∷ 0 ∷ 0 ∷ 0 ∷ 36 ∷ 1 ∷ []); sent = ([]) } ∷ []

fields_replies : replies fields fields_steps ≡ (check_after ([]) (plain_sense 5 36 0)) ∷ (check_after ([]) (plain_sense 5 36 0)) ∷ (check_after ([]) (plain_sense 5 36 0)) ∷ (check_after ([]) (plain_sense 5 36 0)) ∷ (check_after ([]) (plain_sense 5 36 0)) ∷ (check_after ([]) (plain_sense 5 36 0)) ∷ (check_after ([]) (plain_sense 5 36 0)) ∷ (check_after ([]) (plain_sense 5 36 0)) ∷ (check_after ([]) (plain_sense 5 36 0)) ∷ (check_after ([]) (plain_sense 5 36 0)) ∷ (check_after ([]) (plain_sense 5 36 0)) ∷ (good (65 ∷ 65 ∷ 65 ∷ 65 ∷ 65 ∷ 65 ∷ 65 ∷ 65 ∷ 65 ∷ 65 ∷ 65 ∷ 65 ∷ 65 ∷ 65 ∷ 65 ∷ 65 ∷ [])) ∷ (good ([])) ∷ (good ([])) ∷ (good ([])) ∷ (check_after ([]) (plain_sense 5 32 0)) ∷ (check_after ([]) (plain_sense 5 32 0)) ∷ (check_after ([]) (plain_sense 5 32 0)) ∷ (check_after ([]) (plain_sense 5 36 0)) ∷ (check_after ([]) (plain_sense 5 36 0)) ∷ []
fields_replies = refl

fields_senses : senses (replies fields fields_steps) ≡ (112 ∷ 0 ∷ 5 ∷ 0 ∷ 0 ∷ 0 ∷ 0 ∷ 10 ∷ 0 ∷ 0 ∷ 0 ∷ 0 ∷ 36 ∷ 0 ∷ 0 ∷ 0 ∷ 0 ∷ 0 ∷ []) ∷ (112 ∷ 0 ∷ 5 ∷ 0 ∷ 0 ∷ 0 ∷ 0 ∷ 10 ∷ 0 ∷ 0 ∷ 0 ∷ 0 ∷ 36 ∷ 0 ∷ 0 ∷ 0 ∷ 0 ∷ 0 ∷ []) ∷ (112 ∷ 0 ∷ 5 ∷ 0 ∷ 0 ∷ 0 ∷ 0 ∷ 10 ∷ 0 ∷ 0 ∷ 0 ∷ 0 ∷ 36 ∷ 0 ∷ 0 ∷ 0 ∷ 0 ∷ 0 ∷ []) ∷ (112 ∷ 0 ∷ 5 ∷ 0 ∷ 0 ∷ 0 ∷ 0 ∷ 10 ∷ 0 ∷ 0 ∷ 0 ∷ 0 ∷ 36 ∷ 0 ∷ 0 ∷ 0 ∷ 0 ∷ 0 ∷ []) ∷ (112 ∷ 0 ∷ 5 ∷ 0 ∷ 0 ∷ 0 ∷ 0 ∷ 10 ∷ 0 ∷ 0 ∷ 0 ∷ 0 ∷ 36 ∷ 0 ∷ 0 ∷ 0 ∷ 0 ∷ 0 ∷ []) ∷ (112 ∷ 0 ∷ 5 ∷ 0 ∷ 0 ∷ 0 ∷ 0 ∷ 10 ∷ 0 ∷ 0 ∷ 0 ∷ 0 ∷ 36 ∷ 0 ∷ 0 ∷ 0 ∷ 0 ∷ 0 ∷ []) ∷ (112 ∷ 0 ∷ 5 ∷ 0 ∷ 0 ∷ 0 ∷ 0 ∷ 10 ∷ 0 ∷ 0 ∷ 0 ∷ 0 ∷ 36 ∷ 0 ∷ 0 ∷ 0 ∷ 0 ∷ 0 ∷ []) ∷ (112 ∷ 0 ∷ 5 ∷ 0 ∷ 0 ∷ 0 ∷ 0 ∷ 10 ∷ 0 ∷ 0 ∷ 0 ∷ 0 ∷ 36 ∷ 0 ∷ 0 ∷ 0 ∷ 0 ∷ 0 ∷ []) ∷ (112 ∷ 0 ∷ 5 ∷ 0 ∷ 0 ∷ 0 ∷ 0 ∷ 10 ∷ 0 ∷ 0 ∷ 0 ∷ 0 ∷ 36 ∷ 0 ∷ 0 ∷ 0 ∷ 0 ∷ 0 ∷ []) ∷ (112 ∷ 0 ∷ 5 ∷ 0 ∷ 0 ∷ 0 ∷ 0 ∷ 10 ∷ 0 ∷ 0 ∷ 0 ∷ 0 ∷ 36 ∷ 0 ∷ 0 ∷ 0 ∷ 0 ∷ 0 ∷ []) ∷ (112 ∷ 0 ∷ 5 ∷ 0 ∷ 0 ∷ 0 ∷ 0 ∷ 10 ∷ 0 ∷ 0 ∷ 0 ∷ 0 ∷ 36 ∷ 0 ∷ 0 ∷ 0 ∷ 0 ∷ 0 ∷ []) ∷ (112 ∷ 0 ∷ 5 ∷ 0 ∷ 0 ∷ 0 ∷ 0 ∷ 10 ∷ 0 ∷ 0 ∷ 0 ∷ 0 ∷ 32 ∷ 0 ∷ 0 ∷ 0 ∷ 0 ∷ 0 ∷ []) ∷ (112 ∷ 0 ∷ 5 ∷ 0 ∷ 0 ∷ 0 ∷ 0 ∷ 10 ∷ 0 ∷ 0 ∷ 0 ∷ 0 ∷ 32 ∷ 0 ∷ 0 ∷ 0 ∷ 0 ∷ 0 ∷ []) ∷ (112 ∷ 0 ∷ 5 ∷ 0 ∷ 0 ∷ 0 ∷ 0 ∷ 10 ∷ 0 ∷ 0 ∷ 0 ∷ 0 ∷ 32 ∷ 0 ∷ 0 ∷ 0 ∷ 0 ∷ 0 ∷ []) ∷ (112 ∷ 0 ∷ 5 ∷ 0 ∷ 0 ∷ 0 ∷ 0 ∷ 10 ∷ 0 ∷ 0 ∷ 0 ∷ 0 ∷ 36 ∷ 0 ∷ 0 ∷ 0 ∷ 0 ∷ 0 ∷ []) ∷ (112 ∷ 0 ∷ 5 ∷ 0 ∷ 0 ∷ 0 ∷ 0 ∷ 10 ∷ 0 ∷ 0 ∷ 0 ∷ 0 ∷ 36 ∷ 0 ∷ 0 ∷ 0 ∷ 0 ∷ 0 ∷ []) ∷ []
fields_senses = refl

fields_changes : changes fields fields_steps ≡ false ∷ false ∷ false ∷ false ∷ false ∷ false ∷ false ∷ false ∷ false ∷ false ∷ false ∷ true ∷ true ∷ true ∷ true ∷ false ∷ false ∷ false ∷ false ∷ false ∷ []
fields_changes = refl

fields_taken : taken fields fields_steps ≡ 0 ∷ 0 ∷ 0 ∷ 0 ∷ 0 ∷ 0 ∷ 0 ∷ 0 ∷ 0 ∷ 0 ∷ 0 ∷ 0 ∷ 0 ∷ 0 ∷ 0 ∷ 0 ∷ 0 ∷ 0 ∷ 0 ∷ 0 ∷ []
fields_taken = refl

fields_tape : left fields fields_steps ≡ record {
  capacity = 12;
  size = 16;
  reel = record { objects = block (65 ∷ 65 ∷ 65 ∷ 65 ∷ 65 ∷ 65 ∷ 65 ∷ 65 ∷ 65 ∷ 65 ∷ 65 ∷ 65 ∷ 65 ∷ 65 ∷ 65 ∷ 65 ∷ []) ∷ block (66 ∷ 66 ∷ 66 ∷ 66 ∷ 66 ∷ 66 ∷ 66 ∷ 66 ∷ 66 ∷ 66 ∷ 66 ∷ 66 ∷ 66 ∷ 66 ∷ 66 ∷ 66 ∷ []) ∷ filemark ∷ block (67 ∷ 67 ∷ 67 ∷ 67 ∷ 67 ∷ 67 ∷ 67 ∷ 67 ∷ 67 ∷ 67 ∷ 67 ∷ 67 ∷ 67 ∷ 67 ∷ 67 ∷ 67 ∷ []) ∷ filemark ∷ filemark ∷ block (68 ∷ 68 ∷ 68 ∷ 68 ∷ 68 ∷ 68 ∷ 68 ∷ 68 ∷ 68 ∷ 68 ∷ 68 ∷ 68 ∷ 68 ∷ 68 ∷ 68 ∷ 68 ∷ []) ∷ []; position = 0 };
}
fields_tape = refl

-- ---- full_tape

abbrev full_tape : Tape
full_tape = with_objects (blank_tape 2 16) (block (65 ∷ 65 ∷ 65 ∷ 65 ∷ 65 ∷ 65 ∷ 65 ∷ 65 ∷ 65 ∷ 65 ∷ 65 ∷ 65 ∷ 65 ∷ 65 ∷ 65 ∷ 65 ∷ []) ∷ filemark ∷ [])

abbrev full_tape_steps : List Step
full_tape_steps = record { cdb = (17 ∷ 3 ∷ 0 ∷ 0 ∷ 0 ∷ 0 ∷ []); sent = ([]) } ∷ record { cdb = (16 ∷ 0 ∷ 0 ∷ 0 ∷ 1 ∷ 0 ∷ []); sent = ([]) } ∷ record { cdb = (17 ∷ 1 ∷ 255 ∷ 255 ∷ 255 ∷ 0 ∷ []); sent = ([]) } ∷ record { cdb = (16 ∷ 0 ∷ 0 ∷ 0 ∷ 1 ∷ 0 ∷ []); sent = ([]) } ∷ record { cdb = (8 ∷ 1 ∷ 0 ∷ 0 ∷ 1 ∷ 0 ∷ []); sent = ([]) } ∷ record { cdb = (1 ∷ 0 ∷ 0 ∷ 0 ∷ 0 ∷ 0 ∷ []); sent = ([]) } ∷ record { cdb = (10 ∷ 1 ∷ 0 ∷ 0 ∷ 2 ∷ 0 ∷ []); sent = (0 ∷ 1 ∷ 2 ∷ 3 ∷ 4 ∷ 5 ∷ 6 ∷ 7 ∷ 8 ∷ 9 ∷ 10 ∷ 11 ∷ 12 ∷ 13 ∷ 14 ∷ 15 ∷ 16 ∷ 17 ∷ 18 ∷ 19 ∷ 20 ∷ 21 ∷ 22 ∷ 23 ∷ 24 ∷ 25 ∷ 26 ∷ 27 ∷ 28 ∷ 29 ∷ 30 ∷ 31 ∷ []) } ∷ record { cdb = (10 ∷ 1 ∷ 0 ∷ 0 ∷ 1 ∷ 0 ∷ []); sent = (0 ∷ 1 ∷ 2 ∷ 3 ∷ 4 ∷ 5 ∷ 6 ∷ 7 ∷ 8 ∷ 9 ∷ 10 ∷ 11 ∷ 12 ∷ 13 ∷ 14 ∷ 15 ∷ []) } ∷ []

full_tape_replies : replies full_tape full_tape_steps ≡ (good ([])) ∷ (check_after ([]) (record { key = 13; asc = 0; ascq = 2; marks = 64; residue = Some 1 })) ∷ (good ([])) ∷ (good ([])) ∷ (check_after ([]) (record { key = 8; asc = 0; ascq = 5; marks = 0; residue = Some 1 })) ∷ (good ([])) ∷ (good ([])) ∷ (check_after ([]) (record { key = 13; asc = 0; ascq = 2; marks = 64; residue = Some 1 })) ∷ []
full_tape_replies = refl

full_tape_senses : senses (replies full_tape full_tape_steps) ≡ (240 ∷ 0 ∷ 77 ∷ 0 ∷ 0 ∷ 0 ∷ 1 ∷ 10 ∷ 0 ∷ 0 ∷ 0 ∷ 0 ∷ 0 ∷ 2 ∷ 0 ∷ 0 ∷ 0 ∷ 0 ∷ []) ∷ (240 ∷ 0 ∷ 8 ∷ 0 ∷ 0 ∷ 0 ∷ 1 ∷ 10 ∷ 0 ∷ 0 ∷ 0 ∷ 0 ∷ 0 ∷ 5 ∷ 0 ∷ 0 ∷ 0 ∷ 0 ∷ []) ∷ (240 ∷ 0 ∷ 77 ∷ 0 ∷ 0 ∷ 0 ∷ 1 ∷ 10 ∷ 0 ∷ 0 ∷ 0 ∷ 0 ∷ 0 ∷ 2 ∷ 0 ∷ 0 ∷ 0 ∷ 0 ∷ []) ∷ []
full_tape_senses = refl

full_tape_changes : changes full_tape full_tape_steps ≡ true ∷ false ∷ true ∷ true ∷ true ∷ true ∷ true ∷ false ∷ []
full_tape_changes = refl

full_tape_taken : taken full_tape full_tape_steps ≡ 0 ∷ 0 ∷ 0 ∷ 0 ∷ 0 ∷ 0 ∷ 32 ∷ 0 ∷ []
full_tape_taken = refl

full_tape_tape : left full_tape full_tape_steps ≡ record {
  capacity = 2;
  size = 16;
  reel = record { objects = block (0 ∷ 1 ∷ 2 ∷ 3 ∷ 4 ∷ 5 ∷ 6 ∷ 7 ∷ 8 ∷ 9 ∷ 10 ∷ 11 ∷ 12 ∷ 13 ∷ 14 ∷ 15 ∷ []) ∷ block (16 ∷ 17 ∷ 18 ∷ 19 ∷ 20 ∷ 21 ∷ 22 ∷ 23 ∷ 24 ∷ 25 ∷ 26 ∷ 27 ∷ 28 ∷ 29 ∷ 30 ∷ 31 ∷ []) ∷ []; position = 2 };
}
full_tape_tape = refl

-- ---- great_counts

abbrev great_counts : Tape
great_counts = with_objects (blank_tape 12 16) (block (65 ∷ 65 ∷ 65 ∷ 65 ∷ 65 ∷ 65 ∷ 65 ∷ 65 ∷ 65 ∷ 65 ∷ 65 ∷ 65 ∷ 65 ∷ 65 ∷ 65 ∷ 65 ∷ []) ∷ block (66 ∷ 66 ∷ 66 ∷ 66 ∷ 66 ∷ 66 ∷ 66 ∷ 66 ∷ 66 ∷ 66 ∷ 66 ∷ 66 ∷ 66 ∷ 66 ∷ 66 ∷ 66 ∷ []) ∷ filemark ∷ block (67 ∷ 67 ∷ 67 ∷ 67 ∷ 67 ∷ 67 ∷ 67 ∷ 67 ∷ 67 ∷ 67 ∷ 67 ∷ 67 ∷ 67 ∷ 67 ∷ 67 ∷ 67 ∷ []) ∷ filemark ∷ filemark ∷ block (68 ∷ 68 ∷ 68 ∷ 68 ∷ 68 ∷ 68 ∷ 68 ∷ 68 ∷ 68 ∷ 68 ∷ 68 ∷ 68 ∷ 68 ∷ 68 ∷ 68 ∷ 68 ∷ []) ∷ [])

abbrev great_counts_steps : List Step
great_counts_steps = record { cdb = (17 ∷ 0 ∷ 127 ∷ 255 ∷ 255 ∷ 0 ∷ []); sent = ([]) } ∷ record { cdb = (17 ∷ 0 ∷ 128 ∷ 0 ∷ 0 ∷ 0 ∷ []); sent = ([]) } ∷ record { cdb = (16 ∷ 0 ∷ 255 ∷ 255 ∷ 255 ∷ 0 ∷ []); sent = ([]) } ∷ record { cdb = (17 ∷ 1 ∷ 127 ∷ 255 ∷ 255 ∷ 0 ∷ []); sent = ([]) } ∷ record { cdb = (17 ∷ 1 ∷ 128 ∷ 0 ∷ 0 ∷ 0 ∷ []); sent = ([]) } ∷ record { cdb = (8 ∷ 1 ∷ 0 ∷ 16 ∷ 0 ∷ 0 ∷ []); sent = ([]) } ∷ []

great_counts_replies : replies great_counts great_counts_steps ≡ (check_after ([]) (record { key = 0; asc = 0; ascq = 1; marks = 128; residue = Some 8388605 })) ∷ (check_after ([]) (record { key = 0; asc = 0; ascq = 1; marks = 128; residue = Some 8388608 })) ∷ (check_after ([]) (record { key = 13; asc = 0; ascq = 2; marks = 64; residue = Some 16777215 })) ∷ (check_after ([]) (record { key = 8; asc = 0; ascq = 5; marks = 0; residue = Some 8388604 })) ∷ (check_after ([]) (record { key = 0; asc = 0; ascq = 4; marks = 64; residue = Some 8388605 })) ∷ (check_after (65 ∷ 65 ∷ 65 ∷ 65 ∷ 65 ∷ 65 ∷ 65 ∷ 65 ∷ 65 ∷ 65 ∷ 65 ∷ 65 ∷ 65 ∷ 65 ∷ 65 ∷ 65 ∷ 66 ∷ 66 ∷ 66 ∷ 66 ∷ 66 ∷ 66 ∷ 66 ∷ 66 ∷ 66 ∷ 66 ∷ 66 ∷ 66 ∷ 66 ∷ 66 ∷ 66 ∷ 66 ∷ []) (record { key = 0; asc = 0; ascq = 1; marks = 128; residue = Some 4094 })) ∷ []
great_counts_replies = refl

great_counts_senses : senses (replies great_counts great_counts_steps) ≡ (240 ∷ 0 ∷ 128 ∷ 0 ∷ 127 ∷ 255 ∷ 253 ∷ 10 ∷ 0 ∷ 0 ∷ 0 ∷ 0 ∷ 0 ∷ 1 ∷ 0 ∷ 0 ∷ 0 ∷ 0 ∷ []) ∷ (240 ∷ 0 ∷ 128 ∷ 0 ∷ 128 ∷ 0 ∷ 0 ∷ 10 ∷ 0 ∷ 0 ∷ 0 ∷ 0 ∷ 0 ∷ 1 ∷ 0 ∷ 0 ∷ 0 ∷ 0 ∷ []) ∷ (240 ∷ 0 ∷ 77 ∷ 0 ∷ 255 ∷ 255 ∷ 255 ∷ 10 ∷ 0 ∷ 0 ∷ 0 ∷ 0 ∷ 0 ∷ 2 ∷ 0 ∷ 0 ∷ 0 ∷ 0 ∷ []) ∷ (240 ∷ 0 ∷ 8 ∷ 0 ∷ 127 ∷ 255 ∷ 252 ∷ 10 ∷ 0 ∷ 0 ∷ 0 ∷ 0 ∷ 0 ∷ 5 ∷ 0 ∷ 0 ∷ 0 ∷ 0 ∷ []) ∷ (240 ∷ 0 ∷ 64 ∷ 0 ∷ 127 ∷ 255 ∷ 253 ∷ 10 ∷ 0 ∷ 0 ∷ 0 ∷ 0 ∷ 0 ∷ 4 ∷ 0 ∷ 0 ∷ 0 ∷ 0 ∷ []) ∷ (240 ∷ 0 ∷ 128 ∷ 0 ∷ 0 ∷ 15 ∷ 254 ∷ 10 ∷ 0 ∷ 0 ∷ 0 ∷ 0 ∷ 0 ∷ 1 ∷ 0 ∷ 0 ∷ 0 ∷ 0 ∷ []) ∷ []
great_counts_senses = refl

great_counts_changes : changes great_counts great_counts_steps ≡ true ∷ true ∷ false ∷ true ∷ true ∷ true ∷ []
great_counts_changes = refl

great_counts_taken : taken great_counts great_counts_steps ≡ 0 ∷ 0 ∷ 0 ∷ 0 ∷ 0 ∷ 0 ∷ []
great_counts_taken = refl

great_counts_tape : left great_counts great_counts_steps ≡ record {
  capacity = 12;
  size = 16;
  reel = record { objects = block (65 ∷ 65 ∷ 65 ∷ 65 ∷ 65 ∷ 65 ∷ 65 ∷ 65 ∷ 65 ∷ 65 ∷ 65 ∷ 65 ∷ 65 ∷ 65 ∷ 65 ∷ 65 ∷ []) ∷ block (66 ∷ 66 ∷ 66 ∷ 66 ∷ 66 ∷ 66 ∷ 66 ∷ 66 ∷ 66 ∷ 66 ∷ 66 ∷ 66 ∷ 66 ∷ 66 ∷ 66 ∷ 66 ∷ []) ∷ filemark ∷ block (67 ∷ 67 ∷ 67 ∷ 67 ∷ 67 ∷ 67 ∷ 67 ∷ 67 ∷ 67 ∷ 67 ∷ 67 ∷ 67 ∷ 67 ∷ 67 ∷ 67 ∷ 67 ∷ []) ∷ filemark ∷ filemark ∷ block (68 ∷ 68 ∷ 68 ∷ 68 ∷ 68 ∷ 68 ∷ 68 ∷ 68 ∷ 68 ∷ 68 ∷ 68 ∷ 68 ∷ 68 ∷ 68 ∷ 68 ∷ 68 ∷ []) ∷ []; position = 3 };
}
great_counts_tape = refl

-- ---- length_known_late

abbrev length_known_late : Tape
length_known_late = with_objects (blank_tape 8 16) ([])

abbrev length_known_late_steps : List Step
length_known_late_steps = record { cdb = (10 ∷ 1 ∷ 0 ∷ 0 ∷ 2 ∷ 0 ∷ []); sent = (0 ∷ 1 ∷ 2 ∷ 3 ∷ 4 ∷ 5 ∷ 6 ∷ 7 ∷ 8 ∷ 9 ∷ 10 ∷ 11 ∷ 12 ∷ 13 ∷ 14 ∷ 15 ∷ 16 ∷ 17 ∷ 18 ∷ 19 ∷ 20 ∷ 21 ∷ 22 ∷ 23 ∷ 24 ∷ 25 ∷ 26 ∷ 27 ∷ 28 ∷ 29 ∷ 30 ∷ 31 ∷ []) } ∷ record { cdb = (1 ∷ 0 ∷ 0 ∷ 0 ∷ 0 ∷ 0 ∷ []); sent = ([]) } ∷ record { cdb = (8 ∷ 1 ∷ 0 ∷ 0 ∷ 3 ∷ 0 ∷ []); sent = ([]) } ∷ []

length_known_late_replies : replies length_known_late length_known_late_steps ≡ (good ([])) ∷ (good ([])) ∷ (check_after (0 ∷ 1 ∷ 2 ∷ 3 ∷ 4 ∷ 5 ∷ 6 ∷ 7 ∷ 8 ∷ 9 ∷ 10 ∷ 11 ∷ 12 ∷ 13 ∷ 14 ∷ 15 ∷ 16 ∷ 17 ∷ 18 ∷ 19 ∷ 20 ∷ 21 ∷ 22 ∷ 23 ∷ 24 ∷ 25 ∷ 26 ∷ 27 ∷ 28 ∷ 29 ∷ 30 ∷ 31 ∷ []) (record { key = 8; asc = 0; ascq = 5; marks = 0; residue = Some 1 })) ∷ []
length_known_late_replies = refl

length_known_late_senses : senses (replies length_known_late length_known_late_steps) ≡ (240 ∷ 0 ∷ 8 ∷ 0 ∷ 0 ∷ 0 ∷ 1 ∷ 10 ∷ 0 ∷ 0 ∷ 0 ∷ 0 ∷ 0 ∷ 5 ∷ 0 ∷ 0 ∷ 0 ∷ 0 ∷ []) ∷ []
length_known_late_senses = refl

length_known_late_changes : changes length_known_late length_known_late_steps ≡ true ∷ true ∷ true ∷ []
length_known_late_changes = refl

length_known_late_taken : taken length_known_late length_known_late_steps ≡ 32 ∷ 0 ∷ 0 ∷ []
length_known_late_taken = refl

length_known_late_tape : left length_known_late length_known_late_steps ≡ record {
  capacity = 8;
  size = 16;
  reel = record { objects = block (0 ∷ 1 ∷ 2 ∷ 3 ∷ 4 ∷ 5 ∷ 6 ∷ 7 ∷ 8 ∷ 9 ∷ 10 ∷ 11 ∷ 12 ∷ 13 ∷ 14 ∷ 15 ∷ []) ∷ block (16 ∷ 17 ∷ 18 ∷ 19 ∷ 20 ∷ 21 ∷ 22 ∷ 23 ∷ 24 ∷ 25 ∷ 26 ∷ 27 ∷ 28 ∷ 29 ∷ 30 ∷ 31 ∷ []) ∷ []; position = 2 };
}
length_known_late_tape = refl

-- ---- read

abbrev read : Tape
read = with_objects (blank_tape 12 16) (block (65 ∷ 65 ∷ 65 ∷ 65 ∷ 65 ∷ 65 ∷ 65 ∷ 65 ∷ 65 ∷ 65 ∷ 65 ∷ 65 ∷ 65 ∷ 65 ∷ 65 ∷ 65 ∷ []) ∷ block (66 ∷ 66 ∷ 66 ∷ 66 ∷ 66 ∷ 66 ∷ 66 ∷ 66 ∷ 66 ∷ 66 ∷ 66 ∷ 66 ∷ 66 ∷ 66 ∷ 66 ∷ 66 ∷ []) ∷ filemark ∷ block (67 ∷ 67 ∷ 67 ∷ 67 ∷ 67 ∷ 67 ∷ 67 ∷ 67 ∷ 67 ∷ 67 ∷ 67 ∷ 67 ∷ 67 ∷ 67 ∷ 67 ∷ 67 ∷ []) ∷ filemark ∷ filemark ∷ block (68 ∷ 68 ∷ 68 ∷ 68 ∷ 68 ∷ 68 ∷ 68 ∷ 68 ∷ 68 ∷ 68 ∷ 68 ∷ 68 ∷ 68 ∷ 68 ∷ 68 ∷ 68 ∷ []) ∷ [])

abbrev read_steps : List Step
read_steps = record { cdb = (8 ∷ 1 ∷ 0 ∷ 0 ∷ 2 ∷ 0 ∷ []); sent = ([]) } ∷ record { cdb = (8 ∷ 1 ∷ 0 ∷ 0 ∷ 1 ∷ 0 ∷ []); sent = ([]) } ∷ record { cdb = (8 ∷ 1 ∷ 0 ∷ 0 ∷ 1 ∷ 0 ∷ []); sent = ([]) } ∷ record { cdb = (8 ∷ 1 ∷ 0 ∷ 0 ∷ 5 ∷ 0 ∷ []); sent = ([]) } ∷ record { cdb = (8 ∷ 1 ∷ 0 ∷ 0 ∷ 2 ∷ 0 ∷ []); sent = ([]) } ∷ record { cdb = (8 ∷ 1 ∷ 0 ∷ 0 ∷ 3 ∷ 0 ∷ []); sent = ([]) } ∷ record { cdb = (8 ∷ 1 ∷ 0 ∷ 0 ∷ 1 ∷ 0 ∷ []); sent = ([]) } ∷ record { cdb = (8 ∷ 1 ∷ 0 ∷ 0 ∷ 0 ∷ 0 ∷ []); sent = ([]) } ∷ []

read_replies : replies read read_steps ≡ (good (65 ∷ 65 ∷ 65 ∷ 65 ∷ 65 ∷ 65 ∷ 65 ∷ 65 ∷ 65 ∷ 65 ∷ 65 ∷ 65 ∷ 65 ∷ 65 ∷ 65 ∷ 65 ∷ 66 ∷ 66 ∷ 66 ∷ 66 ∷ 66 ∷ 66 ∷ 66 ∷ 66 ∷ 66 ∷ 66 ∷ 66 ∷ 66 ∷ 66 ∷ 66 ∷ 66 ∷ 66 ∷ [])) ∷ (check_after ([]) (record { key = 0; asc = 0; ascq = 1; marks = 128; residue = Some 1 })) ∷ (good (67 ∷ 67 ∷ 67 ∷ 67 ∷ 67 ∷ 67 ∷ 67 ∷ 67 ∷ 67 ∷ 67 ∷ 67 ∷ 67 ∷ 67 ∷ 67 ∷ 67 ∷ 67 ∷ [])) ∷ (check_after ([]) (record { key = 0; asc = 0; ascq = 1; marks = 128; residue = Some 5 })) ∷ (check_after ([]) (record { key = 0; asc = 0; ascq = 1; marks = 128; residue = Some 2 })) ∷ (check_after (68 ∷ 68 ∷ 68 ∷ 68 ∷ 68 ∷ 68 ∷ 68 ∷ 68 ∷ 68 ∷ 68 ∷ 68 ∷ 68 ∷ 68 ∷ 68 ∷ 68 ∷ 68 ∷ []) (record { key = 8; asc = 0; ascq = 5; marks = 0; residue = Some 2 })) ∷ (check_after ([]) (record { key = 8; asc = 0; ascq = 5; marks = 0; residue = Some 1 })) ∷ (good ([])) ∷ []
read_replies = refl

read_senses : senses (replies read read_steps) ≡ (240 ∷ 0 ∷ 128 ∷ 0 ∷ 0 ∷ 0 ∷ 1 ∷ 10 ∷ 0 ∷ 0 ∷ 0 ∷ 0 ∷ 0 ∷ 1 ∷ 0 ∷ 0 ∷ 0 ∷ 0 ∷ []) ∷ (240 ∷ 0 ∷ 128 ∷ 0 ∷ 0 ∷ 0 ∷ 5 ∷ 10 ∷ 0 ∷ 0 ∷ 0 ∷ 0 ∷ 0 ∷ 1 ∷ 0 ∷ 0 ∷ 0 ∷ 0 ∷ []) ∷ (240 ∷ 0 ∷ 128 ∷ 0 ∷ 0 ∷ 0 ∷ 2 ∷ 10 ∷ 0 ∷ 0 ∷ 0 ∷ 0 ∷ 0 ∷ 1 ∷ 0 ∷ 0 ∷ 0 ∷ 0 ∷ []) ∷ (240 ∷ 0 ∷ 8 ∷ 0 ∷ 0 ∷ 0 ∷ 2 ∷ 10 ∷ 0 ∷ 0 ∷ 0 ∷ 0 ∷ 0 ∷ 5 ∷ 0 ∷ 0 ∷ 0 ∷ 0 ∷ []) ∷ (240 ∷ 0 ∷ 8 ∷ 0 ∷ 0 ∷ 0 ∷ 1 ∷ 10 ∷ 0 ∷ 0 ∷ 0 ∷ 0 ∷ 0 ∷ 5 ∷ 0 ∷ 0 ∷ 0 ∷ 0 ∷ []) ∷ []
read_senses = refl

read_changes : changes read read_steps ≡ true ∷ true ∷ true ∷ true ∷ true ∷ true ∷ true ∷ true ∷ []
read_changes = refl

read_taken : taken read read_steps ≡ 0 ∷ 0 ∷ 0 ∷ 0 ∷ 0 ∷ 0 ∷ 0 ∷ 0 ∷ []
read_taken = refl

read_tape : left read read_steps ≡ record {
  capacity = 12;
  size = 16;
  reel = record { objects = block (65 ∷ 65 ∷ 65 ∷ 65 ∷ 65 ∷ 65 ∷ 65 ∷ 65 ∷ 65 ∷ 65 ∷ 65 ∷ 65 ∷ 65 ∷ 65 ∷ 65 ∷ 65 ∷ []) ∷ block (66 ∷ 66 ∷ 66 ∷ 66 ∷ 66 ∷ 66 ∷ 66 ∷ 66 ∷ 66 ∷ 66 ∷ 66 ∷ 66 ∷ 66 ∷ 66 ∷ 66 ∷ 66 ∷ []) ∷ filemark ∷ block (67 ∷ 67 ∷ 67 ∷ 67 ∷ 67 ∷ 67 ∷ 67 ∷ 67 ∷ 67 ∷ 67 ∷ 67 ∷ 67 ∷ 67 ∷ 67 ∷ 67 ∷ 67 ∷ []) ∷ filemark ∷ filemark ∷ block (68 ∷ 68 ∷ 68 ∷ 68 ∷ 68 ∷ 68 ∷ 68 ∷ 68 ∷ 68 ∷ 68 ∷ 68 ∷ 68 ∷ 68 ∷ 68 ∷ 68 ∷ 68 ∷ []) ∷ []; position = 7 };
}
read_tape = refl

-- ---- read_and_write_in_bursts

abbrev read_and_write_in_bursts : Tape
read_and_write_in_bursts = with_objects (blank_tape 12 16) (block (65 ∷ 65 ∷ 65 ∷ 65 ∷ 65 ∷ 65 ∷ 65 ∷ 65 ∷ 65 ∷ 65 ∷ 65 ∷ 65 ∷ 65 ∷ 65 ∷ 65 ∷ 65 ∷ []) ∷ block (66 ∷ 66 ∷ 66 ∷ 66 ∷ 66 ∷ 66 ∷ 66 ∷ 66 ∷ 66 ∷ 66 ∷ 66 ∷ 66 ∷ 66 ∷ 66 ∷ 66 ∷ 66 ∷ []) ∷ filemark ∷ block (67 ∷ 67 ∷ 67 ∷ 67 ∷ 67 ∷ 67 ∷ 67 ∷ 67 ∷ 67 ∷ 67 ∷ 67 ∷ 67 ∷ 67 ∷ 67 ∷ 67 ∷ 67 ∷ []) ∷ filemark ∷ filemark ∷ block (68 ∷ 68 ∷ 68 ∷ 68 ∷ 68 ∷ 68 ∷ 68 ∷ 68 ∷ 68 ∷ 68 ∷ 68 ∷ 68 ∷ 68 ∷ 68 ∷ 68 ∷ 68 ∷ []) ∷ [])

abbrev read_and_write_in_bursts_steps : List Step
read_and_write_in_bursts_steps = record { cdb = (8 ∷ 1 ∷ 0 ∷ 0 ∷ 3 ∷ 0 ∷ []); sent = ([]) } ∷ record { cdb = (10 ∷ 1 ∷ 0 ∷ 0 ∷ 3 ∷ 0 ∷ []); sent = (0 ∷ 1 ∷ 2 ∷ 3 ∷ 4 ∷ 5 ∷ 6 ∷ 7 ∷ 8 ∷ 9 ∷ 10 ∷ 11 ∷ 12 ∷ 13 ∷ 14 ∷ 15 ∷ 16 ∷ 17 ∷ 18 ∷ 19 ∷ 20 ∷ 21 ∷ 22 ∷ 23 ∷ 24 ∷ 25 ∷ 26 ∷ 27 ∷ 28 ∷ 29 ∷ 30 ∷ 31 ∷ 32 ∷ 33 ∷ 34 ∷ 35 ∷ 36 ∷ 37 ∷ 38 ∷ 39 ∷ 40 ∷ 41 ∷ 42 ∷ 43 ∷ 44 ∷ 45 ∷ 46 ∷ 47 ∷ []) } ∷ record { cdb = (8 ∷ 1 ∷ 0 ∷ 0 ∷ 1 ∷ 0 ∷ []); sent = ([]) } ∷ []

read_and_write_in_bursts_replies : replies read_and_write_in_bursts read_and_write_in_bursts_steps ≡ (check_after (65 ∷ 65 ∷ 65 ∷ 65 ∷ 65 ∷ 65 ∷ 65 ∷ 65 ∷ 65 ∷ 65 ∷ 65 ∷ 65 ∷ 65 ∷ 65 ∷ 65 ∷ 65 ∷ 66 ∷ 66 ∷ 66 ∷ 66 ∷ 66 ∷ 66 ∷ 66 ∷ 66 ∷ 66 ∷ 66 ∷ 66 ∷ 66 ∷ 66 ∷ 66 ∷ 66 ∷ 66 ∷ []) (record { key = 0; asc = 0; ascq = 1; marks = 128; residue = Some 1 })) ∷ (good ([])) ∷ (check_after ([]) (record { key = 8; asc = 0; ascq = 5; marks = 0; residue = Some 1 })) ∷ []
read_and_write_in_bursts_replies = refl

read_and_write_in_bursts_senses : senses (replies read_and_write_in_bursts read_and_write_in_bursts_steps) ≡ (240 ∷ 0 ∷ 128 ∷ 0 ∷ 0 ∷ 0 ∷ 1 ∷ 10 ∷ 0 ∷ 0 ∷ 0 ∷ 0 ∷ 0 ∷ 1 ∷ 0 ∷ 0 ∷ 0 ∷ 0 ∷ []) ∷ (240 ∷ 0 ∷ 8 ∷ 0 ∷ 0 ∷ 0 ∷ 1 ∷ 10 ∷ 0 ∷ 0 ∷ 0 ∷ 0 ∷ 0 ∷ 5 ∷ 0 ∷ 0 ∷ 0 ∷ 0 ∷ []) ∷ []
read_and_write_in_bursts_senses = refl

read_and_write_in_bursts_changes : changes read_and_write_in_bursts read_and_write_in_bursts_steps ≡ true ∷ true ∷ true ∷ []
read_and_write_in_bursts_changes = refl

read_and_write_in_bursts_taken : taken read_and_write_in_bursts read_and_write_in_bursts_steps ≡ 0 ∷ 48 ∷ 0 ∷ []
read_and_write_in_bursts_taken = refl

read_and_write_in_bursts_tape : left read_and_write_in_bursts read_and_write_in_bursts_steps ≡ record {
  capacity = 12;
  size = 16;
  reel = record { objects = block (65 ∷ 65 ∷ 65 ∷ 65 ∷ 65 ∷ 65 ∷ 65 ∷ 65 ∷ 65 ∷ 65 ∷ 65 ∷ 65 ∷ 65 ∷ 65 ∷ 65 ∷ 65 ∷ []) ∷ block (66 ∷ 66 ∷ 66 ∷ 66 ∷ 66 ∷ 66 ∷ 66 ∷ 66 ∷ 66 ∷ 66 ∷ 66 ∷ 66 ∷ 66 ∷ 66 ∷ 66 ∷ 66 ∷ []) ∷ filemark ∷ block (0 ∷ 1 ∷ 2 ∷ 3 ∷ 4 ∷ 5 ∷ 6 ∷ 7 ∷ 8 ∷ 9 ∷ 10 ∷ 11 ∷ 12 ∷ 13 ∷ 14 ∷ 15 ∷ []) ∷ block (16 ∷ 17 ∷ 18 ∷ 19 ∷ 20 ∷ 21 ∷ 22 ∷ 23 ∷ 24 ∷ 25 ∷ 26 ∷ 27 ∷ 28 ∷ 29 ∷ 30 ∷ 31 ∷ []) ∷ block (32 ∷ 33 ∷ 34 ∷ 35 ∷ 36 ∷ 37 ∷ 38 ∷ 39 ∷ 40 ∷ 41 ∷ 42 ∷ 43 ∷ 44 ∷ 45 ∷ 46 ∷ 47 ∷ []) ∷ []; position = 6 };
}
read_and_write_in_bursts_tape = refl

-- ---- room_known_late

abbrev room_known_late : Tape
room_known_late = with_objects (blank_tape 4 16) ([])

abbrev room_known_late_steps : List Step
room_known_late_steps = record { cdb = (10 ∷ 1 ∷ 0 ∷ 0 ∷ 3 ∷ 0 ∷ []); sent = (0 ∷ 1 ∷ 2 ∷ 3 ∷ 4 ∷ 5 ∷ 6 ∷ 7 ∷ 8 ∷ 9 ∷ 10 ∷ 11 ∷ 12 ∷ 13 ∷ 14 ∷ 15 ∷ 16 ∷ 17 ∷ 18 ∷ 19 ∷ 20 ∷ 21 ∷ 22 ∷ 23 ∷ 24 ∷ 25 ∷ 26 ∷ 27 ∷ 28 ∷ 29 ∷ 30 ∷ 31 ∷ 32 ∷ 33 ∷ 34 ∷ 35 ∷ 36 ∷ 37 ∷ 38 ∷ 39 ∷ 40 ∷ 41 ∷ 42 ∷ 43 ∷ 44 ∷ 45 ∷ 46 ∷ 47 ∷ []) } ∷ record { cdb = (10 ∷ 1 ∷ 0 ∷ 0 ∷ 2 ∷ 0 ∷ []); sent = (0 ∷ 1 ∷ 2 ∷ 3 ∷ 4 ∷ 5 ∷ 6 ∷ 7 ∷ 8 ∷ 9 ∷ 10 ∷ 11 ∷ 12 ∷ 13 ∷ 14 ∷ 15 ∷ 16 ∷ 17 ∷ 18 ∷ 19 ∷ 20 ∷ 21 ∷ 22 ∷ 23 ∷ 24 ∷ 25 ∷ 26 ∷ 27 ∷ 28 ∷ 29 ∷ 30 ∷ 31 ∷ []) } ∷ []

room_known_late_replies : replies room_known_late room_known_late_steps ≡ (good ([])) ∷ (check_after ([]) (record { key = 13; asc = 0; ascq = 2; marks = 64; residue = Some 2 })) ∷ []
room_known_late_replies = refl

room_known_late_senses : senses (replies room_known_late room_known_late_steps) ≡ (240 ∷ 0 ∷ 77 ∷ 0 ∷ 0 ∷ 0 ∷ 2 ∷ 10 ∷ 0 ∷ 0 ∷ 0 ∷ 0 ∷ 0 ∷ 2 ∷ 0 ∷ 0 ∷ 0 ∷ 0 ∷ []) ∷ []
room_known_late_senses = refl

room_known_late_changes : changes room_known_late room_known_late_steps ≡ true ∷ false ∷ []
room_known_late_changes = refl

room_known_late_taken : taken room_known_late room_known_late_steps ≡ 48 ∷ 0 ∷ []
room_known_late_taken = refl

room_known_late_tape : left room_known_late room_known_late_steps ≡ record {
  capacity = 4;
  size = 16;
  reel = record { objects = block (0 ∷ 1 ∷ 2 ∷ 3 ∷ 4 ∷ 5 ∷ 6 ∷ 7 ∷ 8 ∷ 9 ∷ 10 ∷ 11 ∷ 12 ∷ 13 ∷ 14 ∷ 15 ∷ []) ∷ block (16 ∷ 17 ∷ 18 ∷ 19 ∷ 20 ∷ 21 ∷ 22 ∷ 23 ∷ 24 ∷ 25 ∷ 26 ∷ 27 ∷ 28 ∷ 29 ∷ 30 ∷ 31 ∷ []) ∷ block (32 ∷ 33 ∷ 34 ∷ 35 ∷ 36 ∷ 37 ∷ 38 ∷ 39 ∷ 40 ∷ 41 ∷ 42 ∷ 43 ∷ 44 ∷ 45 ∷ 46 ∷ 47 ∷ []) ∷ []; position = 3 };
}
room_known_late_tape = refl

-- ---- space_over_blocks

abbrev space_over_blocks : Tape
space_over_blocks = with_objects (blank_tape 12 16) (block (65 ∷ 65 ∷ 65 ∷ 65 ∷ 65 ∷ 65 ∷ 65 ∷ 65 ∷ 65 ∷ 65 ∷ 65 ∷ 65 ∷ 65 ∷ 65 ∷ 65 ∷ 65 ∷ []) ∷ block (66 ∷ 66 ∷ 66 ∷ 66 ∷ 66 ∷ 66 ∷ 66 ∷ 66 ∷ 66 ∷ 66 ∷ 66 ∷ 66 ∷ 66 ∷ 66 ∷ 66 ∷ 66 ∷ []) ∷ filemark ∷ block (67 ∷ 67 ∷ 67 ∷ 67 ∷ 67 ∷ 67 ∷ 67 ∷ 67 ∷ 67 ∷ 67 ∷ 67 ∷ 67 ∷ 67 ∷ 67 ∷ 67 ∷ 67 ∷ []) ∷ filemark ∷ filemark ∷ block (68 ∷ 68 ∷ 68 ∷ 68 ∷ 68 ∷ 68 ∷ 68 ∷ 68 ∷ 68 ∷ 68 ∷ 68 ∷ 68 ∷ 68 ∷ 68 ∷ 68 ∷ 68 ∷ []) ∷ [])

abbrev space_over_blocks_steps : List Step
space_over_blocks_steps = record { cdb = (17 ∷ 0 ∷ 0 ∷ 0 ∷ 2 ∷ 0 ∷ []); sent = ([]) } ∷ record { cdb = (17 ∷ 0 ∷ 0 ∷ 0 ∷ 1 ∷ 0 ∷ []); sent = ([]) } ∷ record { cdb = (17 ∷ 0 ∷ 0 ∷ 0 ∷ 1 ∷ 0 ∷ []); sent = ([]) } ∷ record { cdb = (17 ∷ 0 ∷ 255 ∷ 255 ∷ 255 ∷ 0 ∷ []); sent = ([]) } ∷ record { cdb = (17 ∷ 0 ∷ 255 ∷ 255 ∷ 255 ∷ 0 ∷ []); sent = ([]) } ∷ record { cdb = (17 ∷ 0 ∷ 255 ∷ 255 ∷ 253 ∷ 0 ∷ []); sent = ([]) } ∷ record { cdb = (17 ∷ 0 ∷ 0 ∷ 0 ∷ 20 ∷ 0 ∷ []); sent = ([]) } ∷ record { cdb = (17 ∷ 3 ∷ 0 ∷ 0 ∷ 0 ∷ 0 ∷ []); sent = ([]) } ∷ record { cdb = (17 ∷ 0 ∷ 0 ∷ 0 ∷ 1 ∷ 0 ∷ []); sent = ([]) } ∷ record { cdb = (17 ∷ 0 ∷ 255 ∷ 255 ∷ 254 ∷ 0 ∷ []); sent = ([]) } ∷ []

space_over_blocks_replies : replies space_over_blocks space_over_blocks_steps ≡ (good ([])) ∷ (check_after ([]) (record { key = 0; asc = 0; ascq = 1; marks = 128; residue = Some 1 })) ∷ (good ([])) ∷ (good ([])) ∷ (check_after ([]) (record { key = 0; asc = 0; ascq = 1; marks = 128; residue = Some 1 })) ∷ (check_after ([]) (record { key = 0; asc = 0; ascq = 4; marks = 64; residue = Some 1 })) ∷ (check_after ([]) (record { key = 0; asc = 0; ascq = 1; marks = 128; residue = Some 18 })) ∷ (good ([])) ∷ (check_after ([]) (record { key = 8; asc = 0; ascq = 5; marks = 0; residue = Some 1 })) ∷ (check_after ([]) (record { key = 0; asc = 0; ascq = 1; marks = 128; residue = Some 1 })) ∷ []
space_over_blocks_replies = refl

space_over_blocks_senses : senses (replies space_over_blocks space_over_blocks_steps) ≡ (240 ∷ 0 ∷ 128 ∷ 0 ∷ 0 ∷ 0 ∷ 1 ∷ 10 ∷ 0 ∷ 0 ∷ 0 ∷ 0 ∷ 0 ∷ 1 ∷ 0 ∷ 0 ∷ 0 ∷ 0 ∷ []) ∷ (240 ∷ 0 ∷ 128 ∷ 0 ∷ 0 ∷ 0 ∷ 1 ∷ 10 ∷ 0 ∷ 0 ∷ 0 ∷ 0 ∷ 0 ∷ 1 ∷ 0 ∷ 0 ∷ 0 ∷ 0 ∷ []) ∷ (240 ∷ 0 ∷ 64 ∷ 0 ∷ 0 ∷ 0 ∷ 1 ∷ 10 ∷ 0 ∷ 0 ∷ 0 ∷ 0 ∷ 0 ∷ 4 ∷ 0 ∷ 0 ∷ 0 ∷ 0 ∷ []) ∷ (240 ∷ 0 ∷ 128 ∷ 0 ∷ 0 ∷ 0 ∷ 18 ∷ 10 ∷ 0 ∷ 0 ∷ 0 ∷ 0 ∷ 0 ∷ 1 ∷ 0 ∷ 0 ∷ 0 ∷ 0 ∷ []) ∷ (240 ∷ 0 ∷ 8 ∷ 0 ∷ 0 ∷ 0 ∷ 1 ∷ 10 ∷ 0 ∷ 0 ∷ 0 ∷ 0 ∷ 0 ∷ 5 ∷ 0 ∷ 0 ∷ 0 ∷ 0 ∷ []) ∷ (240 ∷ 0 ∷ 128 ∷ 0 ∷ 0 ∷ 0 ∷ 1 ∷ 10 ∷ 0 ∷ 0 ∷ 0 ∷ 0 ∷ 0 ∷ 1 ∷ 0 ∷ 0 ∷ 0 ∷ 0 ∷ []) ∷ []
space_over_blocks_senses = refl

space_over_blocks_changes : changes space_over_blocks space_over_blocks_steps ≡ true ∷ true ∷ true ∷ true ∷ true ∷ true ∷ true ∷ true ∷ true ∷ true ∷ []
space_over_blocks_changes = refl

space_over_blocks_taken : taken space_over_blocks space_over_blocks_steps ≡ 0 ∷ 0 ∷ 0 ∷ 0 ∷ 0 ∷ 0 ∷ 0 ∷ 0 ∷ 0 ∷ 0 ∷ []
space_over_blocks_taken = refl

space_over_blocks_tape : left space_over_blocks space_over_blocks_steps ≡ record {
  capacity = 12;
  size = 16;
  reel = record { objects = block (65 ∷ 65 ∷ 65 ∷ 65 ∷ 65 ∷ 65 ∷ 65 ∷ 65 ∷ 65 ∷ 65 ∷ 65 ∷ 65 ∷ 65 ∷ 65 ∷ 65 ∷ 65 ∷ []) ∷ block (66 ∷ 66 ∷ 66 ∷ 66 ∷ 66 ∷ 66 ∷ 66 ∷ 66 ∷ 66 ∷ 66 ∷ 66 ∷ 66 ∷ 66 ∷ 66 ∷ 66 ∷ 66 ∷ []) ∷ filemark ∷ block (67 ∷ 67 ∷ 67 ∷ 67 ∷ 67 ∷ 67 ∷ 67 ∷ 67 ∷ 67 ∷ 67 ∷ 67 ∷ 67 ∷ 67 ∷ 67 ∷ 67 ∷ 67 ∷ []) ∷ filemark ∷ filemark ∷ block (68 ∷ 68 ∷ 68 ∷ 68 ∷ 68 ∷ 68 ∷ 68 ∷ 68 ∷ 68 ∷ 68 ∷ 68 ∷ 68 ∷ 68 ∷ 68 ∷ 68 ∷ 68 ∷ []) ∷ []; position = 5 };
}
space_over_blocks_tape = refl

-- ---- space_over_filemarks

abbrev space_over_filemarks : Tape
space_over_filemarks = with_objects (blank_tape 12 16) (block (65 ∷ 65 ∷ 65 ∷ 65 ∷ 65 ∷ 65 ∷ 65 ∷ 65 ∷ 65 ∷ 65 ∷ 65 ∷ 65 ∷ 65 ∷ 65 ∷ 65 ∷ 65 ∷ []) ∷ block (66 ∷ 66 ∷ 66 ∷ 66 ∷ 66 ∷ 66 ∷ 66 ∷ 66 ∷ 66 ∷ 66 ∷ 66 ∷ 66 ∷ 66 ∷ 66 ∷ 66 ∷ 66 ∷ []) ∷ filemark ∷ block (67 ∷ 67 ∷ 67 ∷ 67 ∷ 67 ∷ 67 ∷ 67 ∷ 67 ∷ 67 ∷ 67 ∷ 67 ∷ 67 ∷ 67 ∷ 67 ∷ 67 ∷ 67 ∷ []) ∷ filemark ∷ filemark ∷ block (68 ∷ 68 ∷ 68 ∷ 68 ∷ 68 ∷ 68 ∷ 68 ∷ 68 ∷ 68 ∷ 68 ∷ 68 ∷ 68 ∷ 68 ∷ 68 ∷ 68 ∷ 68 ∷ []) ∷ [])

abbrev space_over_filemarks_steps : List Step
space_over_filemarks_steps = record { cdb = (17 ∷ 1 ∷ 0 ∷ 0 ∷ 2 ∷ 0 ∷ []); sent = ([]) } ∷ record { cdb = (17 ∷ 1 ∷ 0 ∷ 0 ∷ 2 ∷ 0 ∷ []); sent = ([]) } ∷ record { cdb = (17 ∷ 1 ∷ 255 ∷ 255 ∷ 255 ∷ 0 ∷ []); sent = ([]) } ∷ record { cdb = (17 ∷ 1 ∷ 255 ∷ 255 ∷ 253 ∷ 0 ∷ []); sent = ([]) } ∷ record { cdb = (17 ∷ 1 ∷ 0 ∷ 0 ∷ 0 ∷ 0 ∷ []); sent = ([]) } ∷ record { cdb = (17 ∷ 0 ∷ 0 ∷ 0 ∷ 0 ∷ 0 ∷ []); sent = ([]) } ∷ record { cdb = (17 ∷ 1 ∷ 255 ∷ 255 ∷ 255 ∷ 0 ∷ []); sent = ([]) } ∷ record { cdb = (17 ∷ 1 ∷ 0 ∷ 0 ∷ 9 ∷ 0 ∷ []); sent = ([]) } ∷ []

space_over_filemarks_replies : replies space_over_filemarks space_over_filemarks_steps ≡ (good ([])) ∷ (check_after ([]) (record { key = 8; asc = 0; ascq = 5; marks = 0; residue = Some 1 })) ∷ (good ([])) ∷ (check_after ([]) (record { key = 0; asc = 0; ascq = 4; marks = 64; residue = Some 1 })) ∷ (good ([])) ∷ (good ([])) ∷ (check_after ([]) (record { key = 0; asc = 0; ascq = 4; marks = 64; residue = Some 1 })) ∷ (check_after ([]) (record { key = 8; asc = 0; ascq = 5; marks = 0; residue = Some 6 })) ∷ []
space_over_filemarks_replies = refl

space_over_filemarks_senses : senses (replies space_over_filemarks space_over_filemarks_steps) ≡ (240 ∷ 0 ∷ 8 ∷ 0 ∷ 0 ∷ 0 ∷ 1 ∷ 10 ∷ 0 ∷ 0 ∷ 0 ∷ 0 ∷ 0 ∷ 5 ∷ 0 ∷ 0 ∷ 0 ∷ 0 ∷ []) ∷ (240 ∷ 0 ∷ 64 ∷ 0 ∷ 0 ∷ 0 ∷ 1 ∷ 10 ∷ 0 ∷ 0 ∷ 0 ∷ 0 ∷ 0 ∷ 4 ∷ 0 ∷ 0 ∷ 0 ∷ 0 ∷ []) ∷ (240 ∷ 0 ∷ 64 ∷ 0 ∷ 0 ∷ 0 ∷ 1 ∷ 10 ∷ 0 ∷ 0 ∷ 0 ∷ 0 ∷ 0 ∷ 4 ∷ 0 ∷ 0 ∷ 0 ∷ 0 ∷ []) ∷ (240 ∷ 0 ∷ 8 ∷ 0 ∷ 0 ∷ 0 ∷ 6 ∷ 10 ∷ 0 ∷ 0 ∷ 0 ∷ 0 ∷ 0 ∷ 5 ∷ 0 ∷ 0 ∷ 0 ∷ 0 ∷ []) ∷ []
space_over_filemarks_senses = refl

space_over_filemarks_changes : changes space_over_filemarks space_over_filemarks_steps ≡ true ∷ true ∷ true ∷ true ∷ true ∷ true ∷ true ∷ true ∷ []
space_over_filemarks_changes = refl

space_over_filemarks_taken : taken space_over_filemarks space_over_filemarks_steps ≡ 0 ∷ 0 ∷ 0 ∷ 0 ∷ 0 ∷ 0 ∷ 0 ∷ 0 ∷ []
space_over_filemarks_taken = refl

space_over_filemarks_tape : left space_over_filemarks space_over_filemarks_steps ≡ record {
  capacity = 12;
  size = 16;
  reel = record { objects = block (65 ∷ 65 ∷ 65 ∷ 65 ∷ 65 ∷ 65 ∷ 65 ∷ 65 ∷ 65 ∷ 65 ∷ 65 ∷ 65 ∷ 65 ∷ 65 ∷ 65 ∷ 65 ∷ []) ∷ block (66 ∷ 66 ∷ 66 ∷ 66 ∷ 66 ∷ 66 ∷ 66 ∷ 66 ∷ 66 ∷ 66 ∷ 66 ∷ 66 ∷ 66 ∷ 66 ∷ 66 ∷ 66 ∷ []) ∷ filemark ∷ block (67 ∷ 67 ∷ 67 ∷ 67 ∷ 67 ∷ 67 ∷ 67 ∷ 67 ∷ 67 ∷ 67 ∷ 67 ∷ 67 ∷ 67 ∷ 67 ∷ 67 ∷ 67 ∷ []) ∷ filemark ∷ filemark ∷ block (68 ∷ 68 ∷ 68 ∷ 68 ∷ 68 ∷ 68 ∷ 68 ∷ 68 ∷ 68 ∷ 68 ∷ 68 ∷ 68 ∷ 68 ∷ 68 ∷ 68 ∷ 68 ∷ []) ∷ []; position = 7 };
}
space_over_filemarks_tape = refl

-- ---- write

abbrev write : Tape
write = with_objects (blank_tape 12 16) (block (65 ∷ 65 ∷ 65 ∷ 65 ∷ 65 ∷ 65 ∷ 65 ∷ 65 ∷ 65 ∷ 65 ∷ 65 ∷ 65 ∷ 65 ∷ 65 ∷ 65 ∷ 65 ∷ []) ∷ block (66 ∷ 66 ∷ 66 ∷ 66 ∷ 66 ∷ 66 ∷ 66 ∷ 66 ∷ 66 ∷ 66 ∷ 66 ∷ 66 ∷ 66 ∷ 66 ∷ 66 ∷ 66 ∷ []) ∷ filemark ∷ block (67 ∷ 67 ∷ 67 ∷ 67 ∷ 67 ∷ 67 ∷ 67 ∷ 67 ∷ 67 ∷ 67 ∷ 67 ∷ 67 ∷ 67 ∷ 67 ∷ 67 ∷ 67 ∷ []) ∷ filemark ∷ filemark ∷ block (68 ∷ 68 ∷ 68 ∷ 68 ∷ 68 ∷ 68 ∷ 68 ∷ 68 ∷ 68 ∷ 68 ∷ 68 ∷ 68 ∷ 68 ∷ 68 ∷ 68 ∷ 68 ∷ []) ∷ [])

abbrev write_steps : List Step
write_steps = record { cdb = (17 ∷ 0 ∷ 0 ∷ 0 ∷ 1 ∷ 0 ∷ []); sent = ([]) } ∷ record { cdb = (10 ∷ 1 ∷ 0 ∷ 0 ∷ 2 ∷ 0 ∷ []); sent = (0 ∷ 1 ∷ 2 ∷ 3 ∷ 4 ∷ 5 ∷ 6 ∷ 7 ∷ 8 ∷ 9 ∷ 10 ∷ 11 ∷ 12 ∷ 13 ∷ 14 ∷ 15 ∷ 16 ∷ 17 ∷ 18 ∷ 19 ∷ 20 ∷ 21 ∷ 22 ∷ 23 ∷ 24 ∷ 25 ∷ 26 ∷ 27 ∷ 28 ∷ 29 ∷ 30 ∷ 31 ∷ []) } ∷ record { cdb = (16 ∷ 0 ∷ 0 ∷ 0 ∷ 2 ∷ 0 ∷ []); sent = ([]) } ∷ record { cdb = (1 ∷ 0 ∷ 0 ∷ 0 ∷ 0 ∷ 0 ∷ []); sent = ([]) } ∷ record { cdb = (8 ∷ 1 ∷ 0 ∷ 0 ∷ 4 ∷ 0 ∷ []); sent = ([]) } ∷ []

write_replies : replies write write_steps ≡ (good ([])) ∷ (good ([])) ∷ (good ([])) ∷ (good ([])) ∷ (check_after (65 ∷ 65 ∷ 65 ∷ 65 ∷ 65 ∷ 65 ∷ 65 ∷ 65 ∷ 65 ∷ 65 ∷ 65 ∷ 65 ∷ 65 ∷ 65 ∷ 65 ∷ 65 ∷ 0 ∷ 1 ∷ 2 ∷ 3 ∷ 4 ∷ 5 ∷ 6 ∷ 7 ∷ 8 ∷ 9 ∷ 10 ∷ 11 ∷ 12 ∷ 13 ∷ 14 ∷ 15 ∷ 16 ∷ 17 ∷ 18 ∷ 19 ∷ 20 ∷ 21 ∷ 22 ∷ 23 ∷ 24 ∷ 25 ∷ 26 ∷ 27 ∷ 28 ∷ 29 ∷ 30 ∷ 31 ∷ []) (record { key = 0; asc = 0; ascq = 1; marks = 128; residue = Some 1 })) ∷ []
write_replies = refl

write_senses : senses (replies write write_steps) ≡ (240 ∷ 0 ∷ 128 ∷ 0 ∷ 0 ∷ 0 ∷ 1 ∷ 10 ∷ 0 ∷ 0 ∷ 0 ∷ 0 ∷ 0 ∷ 1 ∷ 0 ∷ 0 ∷ 0 ∷ 0 ∷ []) ∷ []
write_senses = refl

write_changes : changes write write_steps ≡ true ∷ true ∷ true ∷ true ∷ true ∷ []
write_changes = refl

write_taken : taken write write_steps ≡ 0 ∷ 32 ∷ 0 ∷ 0 ∷ 0 ∷ []
write_taken = refl

write_tape : left write write_steps ≡ record {
  capacity = 12;
  size = 16;
  reel = record { objects = block (65 ∷ 65 ∷ 65 ∷ 65 ∷ 65 ∷ 65 ∷ 65 ∷ 65 ∷ 65 ∷ 65 ∷ 65 ∷ 65 ∷ 65 ∷ 65 ∷ 65 ∷ 65 ∷ []) ∷ block (0 ∷ 1 ∷ 2 ∷ 3 ∷ 4 ∷ 5 ∷ 6 ∷ 7 ∷ 8 ∷ 9 ∷ 10 ∷ 11 ∷ 12 ∷ 13 ∷ 14 ∷ 15 ∷ []) ∷ block (16 ∷ 17 ∷ 18 ∷ 19 ∷ 20 ∷ 21 ∷ 22 ∷ 23 ∷ 24 ∷ 25 ∷ 26 ∷ 27 ∷ 28 ∷ 29 ∷ 30 ∷ 31 ∷ []) ∷ filemark ∷ filemark ∷ []; position = 4 };
}
write_tape = refl
