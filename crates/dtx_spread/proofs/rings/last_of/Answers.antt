use Rattle.std.proofs.Common.{replicate, refl}
use Rattle.dtx_spread.proofs.Written.{last_two}
use Rattle.dtx_spread.proofs.rings.last_of.Goals as goal

pub returns-clause-last : goal.returns-clause-last
returns-clause-last c = λ k l.
    last_two c.args.count k (replicate 32 0) c.args.first c.args.second refl c.requires.vectors.0 c.requires.vectors.1
    c.requires.rows l
