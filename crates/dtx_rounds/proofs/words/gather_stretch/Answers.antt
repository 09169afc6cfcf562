use Rattle.std.proofs.Common.{◌≡◌, ◌+◌, ◌*◌, get_or, length-set, set, arith, below_more, ◌∙◌}
use Rattle.std.proofs.Common.{get_or-set_other, get_or-set_same}
use Rattle.dtx_rounds.proofs.words.gather_stretch.Goals as goal

pub loop-i-preserved : goal.loop-i-preserved
loop-i-preserved c =
    let here = c.args.j + c.loop-i.i in
    let byte = get_or c.args.bytes.now (c.args.at + 209 * c.loop-i.i) 0 in
    record {
      long = length-set c.loop-i.word here byte ∙ c.loop-i.invariant.long;
      gathered = below_more
          (λ i. get_or (set c.loop-i.word here byte) (c.args.j + i) 0
          ≡ get_or c.args.bytes.now (c.args.at + 209 * i) 0) c.loop-i.i
          (λ i l. get_or-set_other c.loop-i.word here (c.args.j + i) byte 0 (omega (arith, l))
          ∙ c.loop-i.invariant.gathered i l)
          (get_or-set_same c.loop-i.word here byte 0
          (omega (arith, c.loop-i.invariant.long, c.loop-i-test.true, c.requires.word)));
      before = λ i l. get_or-set_other c.loop-i.word here i byte 0 (omega (arith, l)) ∙ c.loop-i.invariant.before i l;
    }
