-- The report of a run: its trace, its history, the replies, the blocks and the tapes.
use Rattle.std.specs.Prelude.{ℕ, List, ◌++◌, map, codes}
use Rattle.std.specs.List.{flat_map}
use Rattle.scenario.specs.declared.value.TapeDef.{TapeDef}
use Rattle.scenario.specs.declared.value.UnitDef.{UnitDef}
use Rattle.scenario.specs.Value.{ScenarioValue}
use Rattle.run_record.specs.Value.{RunValue}
use Rattle.trace_text.specs.RowText.{trace_text}
use Rattle.trace_text.specs.EventText.{event_text}
use Rattle.trace_text.specs.ReplyText.{replies_text}
use Rattle.trace_text.specs.BlockText.{disks_text}
use Rattle.trace_text.specs.TapeText.{tapes_text}

-- the first list names the target and the unit of each disk, the second those of each tape
abbrev pub report_text : List (ℕ × ℕ) → List (ℕ × ℕ) → RunValue → List ℕ
report_text units tapes run = trace_text run.rows run.end
    ++ (codes "history\n" ++ (flat_map event_text run.history ++ (codes "replies\n"
    ++ (replies_text 1 run.replies ++ (codes "blocks\n" ++ (disks_text units run.disks
    ++ (tapes_text tapes run.tapes ++ codes "done\n")))))))

-- the target and the unit of a disk
abbrev pub disk_name : UnitDef → ℕ × ℕ
disk_name u = (u.target, u.unit)

-- those of a tape
abbrev pub tape_name : TapeDef → ℕ × ℕ
tape_name t = (t.target, t.unit)

-- the report of a run of this scenario, whose disks and tapes are those of its lines
abbrev pub report_of : ScenarioValue → RunValue → List ℕ
report_of s run = report_text (map disk_name s.units) (map tape_name s.tapes) run
