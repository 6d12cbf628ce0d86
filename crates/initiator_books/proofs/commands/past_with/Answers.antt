use Rattle.std.proofs.Common.{◌∙◌, arith, sym}
use Rattle.initiator_books.proofs.KeptCommands.{written_past, written_before}
use Rattle.initiator_books.proofs.commands.past_with.Goals as goal

pub returns-then-is_past-clause-past : goal.returns-then-is_past-clause-past
returns-then-is_past-clause-past c =
    λ mines h. written_past mines c.args.past c.args.place c.args.mine.now h (sym c.is_past.ensures ∙ c.if-is_past.true)

pub returns-else-is_past-clause-past : goal.returns-else-is_past-clause-past
returns-else-is_past-clause-past c = λ mines h. written_before mines c.args.past _ c.args.place c.args.mine.now h
    (omega (arith, c.min.ensures)) (omega (arith, c.min.ensures))
