use Rattle.std.proofs.Common.{arith}
use Rattle.std.proofs.lemmas.Int.{ints}
use Rattle.dtx_level.specs.Shown.{constant, gain}
use Rattle.dtx_level.proofs.pattern.Pattern.standing.Goals as goal

pub returns-clause-gain : goal.returns-clause-gain
unfolding gain
returns-clause-gain c = omega (
  arith,
  ints,
  c.sum_where-pluses.ensures.sum,
  c.sum_where-minuses.ensures.sum,
  c.sum_where-pluses.ensures.small,
  c.sum_where-minuses.ensures.small,
)

pub returns-clause-constant : goal.returns-clause-constant
unfolding constant
returns-clause-constant c = omega (
  arith,
  ints,
  c.sum_where-pluses.ensures.sum,
  c.sum_where-minuses.ensures.sum,
  c.sum_where-pluses.ensures.small,
  c.sum_where-minuses.ensures.small,
)

pub returns-clause-small_gain : goal.returns-clause-small_gain
returns-clause-small_gain c =
    omega (arith, ints, c.sum_where-pluses.ensures.small, c.sum_where-minuses.ensures.small)

pub returns-clause-small_constant : goal.returns-clause-small_constant
returns-clause-small_constant c =
    omega (arith, ints, c.sum_where-pluses.ensures.small, c.sum_where-minuses.ensures.small)
