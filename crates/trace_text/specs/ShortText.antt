-- The short report of a run: how many rows it has, its end, and how many commands ended in each way.
use Rattle.std.specs.Prelude.{ℕ, Bool, true, false, List, [], ◌∷◌, ◌++◌, length, codes, decimal, count_by}
use Rattle.run_record.specs.Value.{RunValue}
use Rattle.run_record.specs.declared.outcome.Outcome.{Outcome}
use Rattle.run_record.specs.declared.outcome.Outcome.TheVariants as outcomes
use Rattle.trace_text.specs.declared.short_form.Ending.{Ending}
use Rattle.trace_text.specs.declared.short_form.Ending.TheVariants as endings

-- The command ended so.
abbrev pub has_ended : Ending → Outcome → Bool
has_ended endings.Good (outcomes.Good bytes) = true
has_ended endings.Check (outcomes.Check sense) = true
has_ended endings.QFull outcomes.QFull = true
has_ended endings.SelTimeout outcomes.SelTimeout = true
has_ended endings.Lost outcomes.Lost = true
has_ended endings.Reset outcomes.Reset = true
has_ended endings.Aborted outcomes.Aborted = true
has_ended _ _ = false

-- a name and a number
abbrev pub count_text : List ℕ → ℕ → List ℕ
count_text name n = name ++ (32 ∷ [] ++ (decimal n ++ 10 ∷ []))

-- how many commands ended so
abbrev pub ending_text : List ℕ → Ending → List Outcome → List ℕ
ending_text name ending replies = count_text name (count_by (has_ended ending) replies)

abbrev pub endings_text : List Outcome → List ℕ
endings_text replies = ending_text (codes "good") endings.Good replies
    ++ (ending_text (codes "check") endings.Check replies ++ (ending_text (codes "qfull") endings.QFull replies
    ++ (ending_text (codes "seltimeout") endings.SelTimeout replies ++ (ending_text (codes "lost") endings.Lost replies
    ++ (ending_text (codes "reset") endings.Reset replies ++ ending_text (codes "aborted") endings.Aborted replies)))))

abbrev pub short_text : RunValue → List ℕ
short_text run = codes "short 1\n"
    ++ (count_text (codes "rows") (length run.rows) ++ (count_text (codes "end") run.end ++ endings_text run.replies))
