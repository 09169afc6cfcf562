use Rattle.dtx_exciter.specs.Emission.{last_segments}
use Rattle.dtx_calm_feed.proofs.Alike.{same_data, same_segments}
use Rattle.dtx_calm_feed.proofs.Given.{locked_gives}
use Rattle.dtx_calm_feed.proofs.Noted.{never_slips}
use Rattle.dtx_calm_feed.proofs.laws.all_send_the_same.Goals as goal

pub returns-clause-segments : goal.returns-clause-segments
returns-clause-segments c = λ a b delay_a delay_b feed life_a life_b n calm locked_a locked_b e.
    let r = never_slips feed calm in
    same_segments feed n (last_segments a delay_a life_a) (last_segments b delay_b life_b)
    (locked_gives a delay_a feed life_a n r locked_a) (locked_gives b delay_b feed life_b n r locked_b) e

pub returns-clause-groups : goal.returns-clause-groups
returns-clause-groups c = λ a b delay_a delay_b feed life_a life_b n calm locked_a locked_b x y.
    let r = never_slips feed calm in
    same_data feed n (last_segments a delay_a life_a) (last_segments b delay_b life_b)
    (locked_gives a delay_a feed life_a n r locked_a) (locked_gives b delay_b feed life_b n r locked_b) x y
