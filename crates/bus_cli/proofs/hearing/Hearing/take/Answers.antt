use Rattle.std.proofs.Common.{ℕ, List, subst, arith}
use Rattle.trace_text.proofs.PiecesLeft.{none_taken}
use Rattle.bus_cli.specs.Hearing.{IsHearingOf}
use Rattle.bus_cli.proofs.hearing.Hearing.take.Goals as goal

pub returns-clause-kept : goal.returns-clause-kept
returns-clause-kept c = λ bytes h few. c.take_line.ensures.kept bytes
    (subst (λ (l : List ℕ). IsHearingOf l c.take_rows-len.new.self)
    (none_taken c.args.piece.now bytes c.take_rows-len.result (omega arith)) (c.take_rows-len.ensures.kept bytes h few))
    few
