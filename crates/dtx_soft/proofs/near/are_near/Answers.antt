use Rattle.std.proofs.Common.{arith}
use Rattle.std.proofs.lemmas.Bool.Decides.{Decides-eqb}
use Rattle.dtx_soft.proofs.near.are_near.Goals as goal

pub returns : goal.returns
returns c = (
  (λ none. record {
    some = omega arith;
    small = omega arith;
    near = λ t n l m. (c.far_lanes-far.ensures n m).0 (c.sum_of.ensures.0 ((Decides-eqb c.sum_of.result 0).0 none) n m)
        t l;
  }),
  (λ fit. (Decides-eqb c.sum_of.result 0).1 (c.sum_of.ensures.1 (λ n m. (c.far_lanes-far.ensures n m).1
      (λ t l. fit.near t n l m)))),
)
