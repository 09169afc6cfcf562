use Rattle.std.proofs.Common.{◌+◌, ◌*◌, refl, arith}
use Rattle.dtx_spread.proofs.Moves.{pair_moved}
use Rattle.dtx_spread.proofs.moving.move_pairs.Goals as goal

pub loop-i-init : goal.loop-i-init
loop-i-init c = record { before = λ k l. absurd (omega arith); behind = λ k l. refl }

pub loop-i-preserved : goal.loop-i-preserved
loop-i-preserved c =
    pair_moved (32 * c.loop-i.i) (32 * (c.loop-i.i + 1)) c.args.count c.args.items.now c.loop-i.items (omega arith)
    (omega (arith, c.loop-i-test.true)) c.loop-i.auto.items c.loop-i.invariant

pub returns : goal.returns
returns c = λ k l. c.loop-i.invariant.before k (omega (arith, l, c.loop-i.auto.i-end, c.loop-i-test.false))
