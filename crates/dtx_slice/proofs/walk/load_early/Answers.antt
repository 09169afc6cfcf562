use Rattle.std.proofs.Common.{◌+◌, ◌*◌, ◌<◌, ◌≤◌, sym, subst, arith}
use Rattle.dtx_slice.proofs.Stores.{loaded, long_loaded}
use Rattle.dtx_slice.proofs.walk.load_early.Goals as goal

pub returns-clause-small : goal.returns-clause-small
returns-clause-small c = λ p l.
    let levels = c.args.levels.now in
    let from = 12 * c.args.round in
    let room : 12 * c.args.round + 16 ≤ 3312 = omega (arith, c.requires.round) in
    let m : p < 16 = omega (arith, long_loaded 3312 from levels c.told-levels room) in
    subst (λ x. x < 8) (sym (loaded 3312 from p levels c.told-levels room m))
    (c.requires.small (12 * c.args.round + p) (omega (arith, c.told-levels)))

pub returns-clause-levels : goal.returns-clause-levels
returns-clause-levels c = λ p l.
    loaded 3312 (12 * c.args.round) p c.args.levels.now c.told-levels (omega (arith, c.requires.round)) (omega arith)
