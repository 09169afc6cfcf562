use Rattle.std.proofs.Common.{◌≡◌, [], ◌*◌, ◌≤◌, length, get_or, ◌∙◌, arith, mul-le-mul_right}
use Rattle.dtx_spread.proofs.ShortCalls.{over_there, over_elsewhere}
use Rattle.dtx_spread.proofs.few.put_over.Goals as goal

pub loop-r-preserved : goal.loop-r-preserved
loop-r-preserved g c =
    let n = c.loop-r.r in
    let h = c.loop-r.invariant in
    let row = get_or c.args.tile.now n [] in
    let lr : length row ≡ 16 = c.requires.tile.long n (omega (arith, c.loop-r-test.true)) in
    let k : n * g.row.B ≤ 15 * g.row.B = mul-le-mul_right g.row.B (omega (arith, c.loop-r-test.true)) in
    record {
      put = λ d j l m o. over_there g.row.B n c.args.place d j c.loop-r.rows c.args.tile.now lr
          (omega (arith, k, c.requires.room, c.loop-r.auto.rows)) h.put l m o;
      others = λ p j l m o. over_elsewhere g.row.B n c.args.place p j c.loop-r.rows row lr l m ∙ h.others p j l m o;
    }
