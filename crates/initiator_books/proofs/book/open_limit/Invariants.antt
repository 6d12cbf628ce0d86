use Rattle.std.specs.Prelude.{◌≡◌, drop}
use Rattle.story_model.specs.Items.{open_limit_of}
use Rattle.initiator_books.proofs.book.open_limit.Given as goal

abbrev pub invariant-loop-def : goal.invariant-loop-def
invariant-loop-def l = open_limit_of (drop l.def-index l.hosts) l.dev ≡ open_limit_of l.hosts l.dev
