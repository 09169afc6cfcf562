use Rattle.std.proofs.Common.{◌+◌, pos, get_or, length-set, w8, subst, ◌∙◌, arith, rules}
use Rattle.std.proofs.lemmas.Int.{to_z-of_z}
use Rattle.dtx_acquire.specs.Acquired.{IsLevel, scaled_level}
use Rattle.dtx_acquire.proofs.Each.{each_from, written_more}
use Rattle.dtx_acquire.proofs.deciding.Decisions.levels.Goals as goal

pub loop-d-preserved : goal.loop-d-preserved
loop-d-preserved c =
    let symbol = get_or c.args.segment.now (4 + c.loop-d.d) (pos 0) in
    record {
      long = length-set c.loop-d.out c.loop-d.d c.level.result ∙ c.loop-d.invariant.long;
      written = written_more
          (λ k x. IsLevel c.args.self.now.scale (get_or c.args.segment.now (4 + k) (pos 0)) x) 0 c.level.result
          c.loop-d.out c.loop-d.d (omega (arith, c.loop-d.invariant.long, c.loop-d-test.true))
          c.loop-d.invariant.written
          (subst (λ x. IsLevel c.args.self.now.scale x c.level.result) (to_z-of_z w8 symbol (search rules))
          c.level.ensures);
    }

pub returns-clause-levels : goal.returns-clause-levels
returns-clause-levels c =
    each_from (scaled_level c.args.self.now.scale) 0 4 828 c.args.segment.now c.loop-d.out c.told-segment
    c.loop-d.invariant.long
    (λ k l. (c.loop-d.invariant.written k (omega (arith, c.loop-d-test.false))).is)

pub returns-clause-small : goal.returns-clause-small
returns-clause-small c = λ k l.
    (c.loop-d.invariant.written k (omega (arith, c.loop-d-test.false, c.loop-d.invariant.long))).small
