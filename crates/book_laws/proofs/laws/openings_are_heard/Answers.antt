use Rattle.book_laws.proofs.Said.Leavings.{opening_named, out_is_known}
use Rattle.book_laws.proofs.laws.openings_are_heard.Goals as goal

-- src/laws.rt
pub returns-clause-named : goal.returns-clause-named
returns-clause-named c = λ s k n units h begun out last. opening_named s k n units h begun out last

-- src/laws.rt
pub returns-clause-known : goal.returns-clause-known
returns-clause-known c = λ s k n change h begun before out says. out_is_known s k n change h begun before out says
