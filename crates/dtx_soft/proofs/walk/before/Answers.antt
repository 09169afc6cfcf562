use Rattle.std.proofs.Common.{lit<, arith, rules}
use Rattle.dtx_soft.specs.Paths.{next_state}
use Rattle.dtx_soft.proofs.WritesLemmas.{four}
use Rattle.dtx_soft.proofs.Lanes.{AreSmall, least_lane}
use Rattle.dtx_soft.proofs.walk.before.Goals as goal

pub returns-clause-potentials : goal.returns-clause-potentials
unfolding next_state
returns-clause-potentials c = four _
    (least_lane c.args.row.now.squares c.args.behind.now 0 0 2 2 small (lit< tt) (lit< tt) (lit< tt) (lit< tt))
    (least_lane c.args.row.now.squares c.args.behind.now 0 2 2 0 small (lit< tt) (lit< tt) (lit< tt) (lit< tt))
    (least_lane c.args.row.now.squares c.args.behind.now 1 1 3 3 small (lit< tt) (lit< tt) (lit< tt) (lit< tt))
    (least_lane c.args.row.now.squares c.args.behind.now 1 3 3 1 small (lit< tt) (lit< tt) (lit< tt) (lit< tt))
  where
    small : AreSmall c.args.row.now.squares c.args.behind.now
    small = record {
      xs_long = search rules;
      ys_long = search rules;
      xs_small = λ k l. (let h = c.requires.squares k l in omega arith);
      ys_small = λ k l. (let h = c.requires.behind k l in omega arith);
    }
