use Rattle.dtx_calm_feed.proofs.Given.{locked_gives}
use Rattle.dtx_calm_feed.proofs.Noted.{never_slips}
use Rattle.dtx_calm_feed.proofs.Orders.{own_first}
use Rattle.dtx_calm_feed.proofs.laws.each_sends_its_own.Goals as goal

pub returns-clause-segments : goal.returns-clause-segments
returns-clause-segments c = λ address delay feed life n calm locked.
    locked_gives address delay feed life n (never_slips feed calm) locked

pub returns-clause-from_the_first : goal.returns-clause-from_the_first
returns-clause-from_the_first c = own_first
