use Rattle.std.proofs.Common.{◌≡◌, ◌+◌, ◌*◌, Some, None, get_or, set, arith, below_more, ◌∙◌}
use Rattle.std.proofs.Common.{get_or-set_other, get_or-set_same}
use Rattle.dtx_rounds.proofs.words.lay_stretch.Goals as goal

pub loop-i-preserved : goal.loop-i-preserved
loop-i-preserved c =
    let here = c.args.at + 209 * c.loop-i.i in
    let byte = Some (get_or c.args.word.now (c.args.j + c.loop-i.i) 0) in
    record {
      laid = below_more
          (λ i. get_or (set c.loop-i.known here byte) (c.args.at + 209 * i) None
          ≡ Some (get_or c.args.word.now (c.args.j + i) 0)) c.loop-i.i
          (λ i l. get_or-set_other c.loop-i.known here (c.args.at + 209 * i) byte None (omega (arith, l))
          ∙ c.loop-i.invariant.laid i l)
          (get_or-set_same c.loop-i.known here byte None (omega (arith, c.loop-i-test.true, c.requires.there)));
      others = λ n ne. get_or-set_other c.loop-i.known here n byte None (ne c.loop-i.i c.loop-i-test.true)
          ∙ c.loop-i.invariant.others n ne;
    }
