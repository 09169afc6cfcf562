use Rattle.dtx_adapter.proofs.FeedsLemmas.{placeholders-append, length-feed, feed_parts}
use Rattle.dtx_adapter.proofs.laws.goes_on.Goals as goal

pub returns-clause-long : goal.returns-clause-long
returns-clause-long c = length-feed

pub returns-clause-front : goal.returns-clause-front
returns-clause-front c = feed_parts

pub returns-clause-filled : goal.returns-clause-filled
returns-clause-filled c = placeholders-append
