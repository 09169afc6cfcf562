use Rattle.std.proofs.Common.{◌≡◌, ℕ, ℤ, ◌-◌, get_or, pos, rules, arith, w8, to_z, of_z}
use Rattle.std.proofs.lemmas.Grind.{common_steps}
use mir.Val.{SFits}
use Rattle.std.proofs.lemmas.Int.{to_z-of_z}
use Rattle.dtx_soft.specs.Paths.{squared, symbol_at}
use Rattle.dtx_soft.proofs.Certificates.{all_left, joined_at, nothing_left, stepped_at}
use Rattle.dtx_soft.proofs.certificate.path_costs.Goals as goal

plain_square : {square : ℕ} (symbol : ℤ) (level : ℕ) → SFits w8 symbol
    → square ≡ squared (to_z w8 (of_z w8 symbol)) (symbol_at 1 level) → square ≡ squared symbol (symbol_at 1 level)
plain_square {square} symbol level fits e = grind (arith, to_z-of_z)

pub returns-then-costs-left : goal.returns-then-costs-left
returns-then-costs-left c = (
  λ h. search rules,
  λ h. (let s = stepped_at c.loop-t.state c.args.symbols.now c.args.levels.now c.loop-t.t
      c.loop-t.left (omega arith) c.requires.long (c.loop-t.invariant.rest.0 h) in
      absurd (omega (arith, s.enough, square))),
)
  where
    square : c.squared_distance-costs.result
        ≡ squared (get_or c.args.symbols.now c.loop-t.t (pos 0)) (symbol_at 1 (get_or c.args.levels.now c.loop-t.t 0))
    square = plain_square (get_or c.args.symbols.now c.loop-t.t (pos 0)) (get_or c.args.levels.now c.loop-t.t 0)
        (search rules) c.squared_distance-costs.ensures.square

pub loop-t-preserved : goal.loop-t-preserved
loop-t-preserved c = grind (arith, common_steps, plain_square, stepped_at, joined_at)

pub returns : goal.returns
returns c = grind (arith, all_left, nothing_left)
