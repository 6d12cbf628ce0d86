use Rattle.text_words.proofs.FirstFeed.{first_of_fed, last_unfed}
use Rattle.text_words.proofs.lines.first_line.Goals as goal

pub returns-in-Some-clause-exact : goal.returns-in-Some-clause-exact
returns-in-Some-clause-exact c = first_of_fed c.args.bytes.now c.in-Some.at c.in-Some.ensures.exact

pub returns-in-None-clause-exact : goal.returns-in-None-clause-exact
returns-in-None-clause-exact c = last_unfed c.args.bytes.now c.requires c.in-None.ensures.exact
