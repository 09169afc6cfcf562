use Rattle.std.proofs.Common.{◌≡◌, ℕ, ◌<◌, ◌+◌, ◌&&◌, not, ◌==◌, Bool, List, sym, arith, get_or, set, false}
use Rattle.std.proofs.lemmas.List.{get_or-set_other}
use Rattle.dtx_galois.specs.Field.{pow}
use Rattle.dtx_galois.proofs.FieldLemmas.{mul_inverse}
use Rattle.dtx_laws.specs.Locator.{combination, is_marked}
use Rattle.dtx_correct.specs.Elimination.{reduced, vector}
use Rattle.dtx_correct.proofs.Reduction.{step, combination_small}
use Rattle.dtx_correct.proofs.Kept.{solves_same, kept_before, count_less}
use Rattle.dtx_correct.proofs.elimination.solve_one.Goals as goal

pub returns-in-Some-clause-solves : goal.returns-in-Some-clause-solves
returns-in-Some-clause-solves c h =
    let w : ℕ = c.args.width in
    let e : ℕ = c.args.equation in
    let p : ℕ = c.in-Some.pivot in
    let s : ℕ → ℕ = λ i. get_or c.args.syndromes.now i 0 in
    let a : ℕ → Bool = is_marked c.args.kept.now in
    let v : ℕ → List ℕ = vector w c.args.vectors.now in
    let f : ℕ = combination (v p) s e in
    let g : ℕ = pow f 254 in
    let found = c.in-Some.ensures.some in
    solves_same w (e + 1) s (λ k. a k && not (k == p)) (is_marked (set c.args.kept.now p false)) (reduced s e v p g)
    (vector w c.reduce.new.vectors)
    (step w e s a v p g h found.0 found.1 (mul_inverse f (not_zero f found.2) (combination_small (v p) s e)))
    (λ k l t. kept_before c.args.kept.now p k (omega (arith, found.0, c.told-kept)) t)
    (λ k l. c.reduce.ensures.vectors k l)
  where
    not_zero : (f : ℕ) → (f ≡ 0 → ⊥) → 0 < f
    not_zero f h = omega arith

pub returns-in-Some-clause-count : goal.returns-in-Some-clause-count
returns-in-Some-clause-count c =
    count_less (is_marked c.args.kept.now) (is_marked (set c.args.kept.now c.in-Some.pivot false)) c.in-Some.pivot
    c.args.width
    (λ j l d. sym (get_or-set_other c.args.kept.now c.in-Some.pivot j false false d))
