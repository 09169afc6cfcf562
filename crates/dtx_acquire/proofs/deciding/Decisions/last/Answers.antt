use Rattle.std.proofs.Common.{◌≡◌, ◌+◌, pos, get_or, length-set, to_z, of_z, w8, ap, ◌∙◌, arith, rules}
use Rattle.std.proofs.lemmas.Int.{to_z-of_z}
use Rattle.dtx_trellis.specs.Trellis.{symbol_of}
use Rattle.dtx_acquire.specs.Acquired.{decided}
use Rattle.dtx_acquire.proofs.Each.{each_from, written_more}
use Rattle.dtx_acquire.proofs.deciding.Decisions.last.Goals as goal

pub loop-q-preserved : goal.loop-q-preserved
loop-q-preserved c =
    let symbol = get_or c.args.segment.now (820 + c.loop-q.q) (pos 0) in
    let written = to_z w8 (of_z w8 c.symbol_at.result) in
    record {
      long = length-set c.loop-q.out c.loop-q.q written ∙ c.loop-q.invariant.long;
      written = written_more
          (λ k x. x ≡ decided c.args.self.now.scale (get_or c.args.segment.now (820 + k) (pos 0))) (pos 0) written
          c.loop-q.out c.loop-q.q (omega (arith, c.loop-q.invariant.long, c.loop-q-test.true))
          c.loop-q.invariant.written
          (to_z-of_z w8 c.symbol_at.result (search rules) ∙ c.symbol_at.ensures ∙ ap symbol_of c.level.ensures.is
          ∙ ap (decided c.args.self.now.scale) (to_z-of_z w8 symbol (search rules)));
    }

pub returns : goal.returns
returns c =
    each_from (decided c.args.self.now.scale) (pos 0) 820 12 c.args.segment.now c.loop-q.out c.told-segment
    c.loop-q.invariant.long
    (λ k l. c.loop-q.invariant.written k (omega (arith, c.loop-q-test.false)))
