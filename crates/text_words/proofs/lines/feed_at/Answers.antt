use Rattle.text_words.proofs.FirstFeed.{first_feed, feed_within}
use Rattle.text_words.proofs.lines.feed_at.Goals as goal

pub returns-clause-exact : goal.returns-clause-exact
returns-clause-exact c = first_feed c.args.bytes.now c.memchr.result c.memchr.ensures

pub returns-clause-within : goal.returns-clause-within
returns-clause-within c = feed_within c.args.bytes.now c.memchr.result c.memchr.ensures
