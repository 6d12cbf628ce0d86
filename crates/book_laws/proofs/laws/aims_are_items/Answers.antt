use Rattle.book_laws.proofs.Items.Facts.{aims_are}
use Rattle.book_laws.proofs.laws.aims_are_items.Goals as goal

-- src/laws.rt
pub returns : goal.returns
returns c = λ s rows. aims_are s rows
