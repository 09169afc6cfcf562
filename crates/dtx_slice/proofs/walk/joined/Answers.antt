use Rattle.std.proofs.Common.{arith}
use Rattle.dtx_slice.proofs.LaneSteps.{long_joined, joined_at}
use Rattle.dtx_slice.proofs.walk.joined.Goals as goal

pub returns-clause-long : goal.returns-clause-long
returns-clause-long c =
    long_joined c.shares-5.result c.shares.result c.shares-2.result c.shares-3.result c.shares-4.result
    (record {
      before = c.shares-5.ensures.long;
      first = c.shares.ensures.long;
      second = c.shares-2.ensures.long;
      third = c.shares-3.ensures.long;
      fourth = c.shares-4.ensures.long;
    })

pub returns-clause-bytes : goal.returns-clause-bytes
returns-clause-bytes c = λ p l.
    joined_at p _ _ _ _ _ c.shares-5.result c.shares.result c.shares-2.result c.shares-3.result c.shares-4.result
    (record {
      before = c.shares-5.ensures.long;
      first = c.shares.ensures.long;
      second = c.shares-2.ensures.long;
      third = c.shares-3.ensures.long;
      fourth = c.shares-4.ensures.long;
    }) l
    (record {
      before = c.shares-5.ensures.shares p (omega arith);
      first = c.shares.ensures.shares p (omega arith);
      second = c.shares-2.ensures.shares p (omega arith);
      third = c.shares-3.ensures.shares p (omega arith);
      fourth = c.shares-4.ensures.shares p (omega arith);
    })
    (c.requires.before p (omega (arith, c.fits-before.0))) (c.requires.first p (omega (arith, c.fits-first.0)))
    (c.requires.second p (omega (arith, c.fits-second.0))) (c.requires.third p (omega (arith, c.fits-third.0)))
    (c.requires.fourth p (omega (arith, c.fits-fourth.0)))
