use Rattle.std.proofs.Common.{[], get_or, ◌∙◌, arith}
use Rattle.dtx_spread.proofs.Strips.{column_there, column_elsewhere}
use Rattle.dtx_spread.proofs.columns.put_columns.Goals as goal

pub loop-c-preserved : goal.loop-c-preserved
loop-c-preserved g c =
    let n = c.loop-c.c in
    let h = c.loop-c.invariant in
    let tile = c.args.tile.now in
    record {
      put = λ d r l m. column_there n c.args.at d r c.loop-c.columns tile c.requires.room c.requires.tile.long
          (omega (arith, c.loop-c-test.true, c.requires.wide))
          (omega (arith, c.loop-c.auto.columns, c.requires.columns))
          h.put l m;
      others = λ d r l o. column_elsewhere n c.args.at d r c.loop-c.columns (get_or tile n []) c.requires.room
          (c.requires.tile.long n (omega (arith, c.loop-c-test.true, c.requires.wide))) l o
          ∙ h.others d r l o;
    }
