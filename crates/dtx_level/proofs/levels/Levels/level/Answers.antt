use Rattle.std.proofs.Common.{◌≡◌, ◌+ℤ◌, ◌-ℤ◌, ◌<◌, ℕ, pos, length, nat_abs, rules, sym, subst, ◌∙◌, arith, ap}
use Rattle.std.proofs.Common.{to_z, of_z, w8, w16}
use Rattle.std.proofs.lemmas.Int.{ints, to_z-of_z}
use Rattle.std.proofs.lemmas.List.{get_or_default}
use Rattle.dtx_level.specs.Levelled.{By, level}
use Rattle.dtx_level.proofs.Bounds.{level_small, same_byte}
use Rattle.dtx_level.proofs.levels.Levels.level.Goals as goal

pub returns : goal.returns
returns c =
    let n : ℕ =
    nat_abs (to_z w16 (of_z w16 (to_z w16 (of_z w16 (to_z w8 (of_z w8 c.args.symbol))) +ℤ pos 128))) in
    let e : pos n -ℤ pos 128 ≡ c.args.symbol = grind (arith, ints, to_z-of_z) in
    let l : n < 256 = grind (arith, ints, to_z-of_z) in
    let long : length c.args.self.now.table.items ≡ 256 = search rules in
    let within : n < length c.args.self.now.table.items = subst (λ m. n < m) (sym long) l in
    let by : By = record {
      begun = c.args.self.now.begun;
      gain = c.args.self.now.gain;
      constant = c.args.self.now.constant;
    } in
    let is : c.index.result.now ≡ level by c.args.symbol =
    c.index.ensures ∙ get_or_default c.args.self.now.table.items n c.index.result.now (pos 0) within
    ∙ c.args.self.now.each n l ∙ ap (level by) e in
    ap (λ x. to_z w8 (of_z w8 x)) is ∙ same_byte (level by c.args.symbol) (level_small by c.args.symbol)
