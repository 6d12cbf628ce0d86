use Rattle.std.proofs.Common.{ℕ, List, subst, arith}
use Rattle.trace_text.specs.Whole.{IsKeptOf}
use Rattle.trace_text.proofs.PiecesLeft.{none_taken}
use Rattle.trace_text.proofs.kept_trace.KeptTrace.take.Goals as goal

pub returns-clause-kept : goal.returns-clause-kept
returns-clause-kept c =
    λ bytes h few. c.in_ok-line.ensures.kept bytes (subst (λ (l : List ℕ). IsKeptOf l c.take_rows.new.self)
    (none_taken c.args.piece.now bytes c.in_ok-len.len (omega arith)) (c.in_ok-len.ensures.kept bytes h few)) few
