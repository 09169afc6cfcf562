use Rattle.std.proofs.Common.{arith, ◌∙◌}
use Rattle.dtx_outside.specs.Counts.{Nothing}
use Rattle.dtx_engine.proofs.Gone.{gone_behind}
use Rattle.dtx_engine.proofs.ZeroBytes.{zeros_more, zeros_unwritten}
use Rattle.dtx_engine.proofs.zeros.write_zeros.Goals as goal

pub loop-left-preserved : goal.loop-left-preserved
loop-left-preserved g c =
    let before = c.loop-left.invariant in
    record {
      most = omega (arith, before.most);
      written = λ start given gathered. grind (arith, zeros_more, c.min-some.ensures, c.in-Ok.ensures.written);
      kept = c.in-Ok.ensures.kept ∙ before.kept;
      gone = gone_behind Nothing (g.S.Shelf.counts c.args.shelf.now) (g.S.Shelf.counts c.loop-left.shelf)
          (g.S.Shelf.counts c.write.new.shelf) before.gone c.in-Ok.ensures.gone;
    }

pub returns-in-Err-clause-written : goal.returns-in-Err-clause-written
returns-in-Err-clause-written g c = λ start given gathered.
    let before = c.loop-left.invariant in
    let put = c.in-Err.ensures.written start _ (before.written start given gathered) in (
      put.0,
      zeros_unwritten (g.W.Outlet.names c.args.outlet.now) (g.W.Outlet.names c.loop-left.outlet) given
          c.min-some.result c.loop-left.left c.args.count start (g.S.Shelf.files c.write.new.shelf) before.kept
          (omega (arith, c.min-some.ensures)) before.most (omega (arith, c.min-some.ensures)) put.1,
    )
