use Rattle.std.proofs.Common.{◌≡◌, ◌+ℤ◌, ◌-ℤ◌, ◌<◌, ℕ, pos, length, nat_abs, rules, sym, subst, ◌∙◌, arith}
use Rattle.std.proofs.Common.{to_z, of_z, w8, w16}
use Rattle.std.proofs.lemmas.Int.{ints, to_z-of_z}
use Rattle.std.proofs.lemmas.List.{get_or_default}
use Rattle.dtx_acquire.specs.Acquired.{IsLevel}
use Rattle.dtx_acquire.proofs.deciding.Decisions.level.Goals as goal

pub returns : goal.returns
returns c =
    let n : ℕ =
    nat_abs (to_z w16 (of_z w16 (to_z w16 (of_z w16 (to_z w8 (of_z w8 c.args.symbol))) +ℤ pos 128))) in
    let e : pos n -ℤ pos 128 ≡ c.args.symbol = grind (arith, ints, to_z-of_z) in
    let l : n < 256 = grind (arith, ints, to_z-of_z) in
    let long : length c.args.self.now.levels.items ≡ 256 = search rules in
    let within : n < length c.args.self.now.levels.items = subst (λ m. n < m) (sym long) l in
    subst (λ x. IsLevel c.args.self.now.scale x c.index.result.now) e
    (subst (λ x. IsLevel c.args.self.now.scale (pos n -ℤ pos 128) x)
    (sym (c.index.ensures ∙ get_or_default c.args.self.now.levels.items n c.index.result.now 0 within))
    (c.args.self.now.each n l))
