use Rattle.std.proofs.Common.{◌≡◌, ◌≤◌, ◌*◌, pos, ◌-ℤ◌, ◌*ℤ◌, nat_abs, ap₂, arith}
use Rattle.std.proofs.lemmas.Int.{ints}
use Rattle.dtx_level.proofs.pattern.square.Goals as goal

pub returns-clause-value : goal.returns-clause-value
returns-clause-value c =
    let apart : c.unsigned_abs-apart.result ≡ nat_abs (c.args.levelled -ℤ pos 8 *ℤ c.args.symbol) =
    omega (arith, ints, c.unsigned_abs-apart.ensures.value, c.ranges.levelled.sfits, c.ranges.symbol.sfits) in
    ap₂ (λ a b. a * b) apart apart

pub returns-clause-small : goal.returns-clause-small
returns-clause-small c =
    let few : c.unsigned_abs-apart.result ≤ 1152 =
    omega (arith, ints, c.unsigned_abs-apart.ensures.value, c.ranges.levelled.sfits, c.ranges.symbol.sfits) in
    grind (arith, few)
