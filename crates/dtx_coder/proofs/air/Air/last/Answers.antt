use Rattle.std.proofs.Common.{◌≡◌, ℕ, ◌+◌, ◌-◌, ◌*◌, ◌≤◌, take, drop, sym, ap, ◌∙◌, arith}
use Rattle.std.proofs.lemmas.List.{drop-take}
use Rattle.dtx_coder.proofs.air.Air.last.Goals as goal

pub returns : goal.returns
returns c =
    let s : ℕ = c.args.self.now.segments in
    let some : 12 ≤ 832 * s = let a = c.requires.some in omega (arith, a) in
    c.copy_from_slice.ensures.after
    ∙ ap (λ k. take k (drop (832 * s - 12) c.args.self.now.symbols)) (let e : 832 * s - (832 * s - 12)
    ≡ 12 = omega (arith, some) in e)
    ∙ sym (drop-take (832 * s - 12) 12 c.args.self.now.symbols)
    ∙ ap (λ k. drop (832 * s - 12) (take k c.args.self.now.symbols)) (let e : 832 * s - 12 + 12
    ≡ 832 * s = omega (arith, some) in e)
