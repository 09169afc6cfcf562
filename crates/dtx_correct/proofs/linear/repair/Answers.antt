use Rattle.std.proofs.Common.{◌≡◌, ℕ, ◌<◌, ◌+◌, ◌*◌, ◌/◌, ◌-◌, List, length, take, drop, refl, ap, ap₂, ◌∙◌, arith}
use Rattle.std.proofs.Common.{get_or, length-drop}
use Rattle.std.proofs.lemmas.List.{take_all}
use Rattle.dtx_galois.specs.Field.{pow, value, sums}
use Rattle.dtx_laws.specs.Locator.{is_marked}
use Rattle.dtx_laws.proofs.PatchingLemmas.{patched_right}
use Rattle.dtx_laws.proofs.PartsLemmas.{syndrome_is}
use Rattle.dtx_correct.proofs.linear.repair.Goals as goal

pub returns : goal.returns
returns c right ic =
    let word : List ℕ = c.args.word.now in
    let n : ℕ = length word in
    let k : ℕ = c.args.k in
    let t : ℕ = (n - k) / 2 in
    let code = c.requires.code in
    let twice : n - k ≡ 2 * t = omega (arith, code.even) in
    let some : 0 < t = omega (arith, code.even, code.longer) in
    patched_right n k t word right (take (t + 1) c.find_locator-locator.result) c.patch.new.word
    (λ i. get_or c.syndromes_of-syndromes.result i 0) (is_marked c.marks_of-marks.result)
    code.short twice some c.requires.bytes refl ic c.find_locator-locator.ensures.locator
    (λ i l.
    c.syndromes_of-syndromes.ensures.values i (omega (arith, ap length (rest k word), length-drop k word, l, twice))
    ∙ ap₂ (λ (xs ys : List ℕ). value (sums xs ys) (pow 2 i)) (rest k word) (rest k c.args.code.now)
    ∙ syndrome_is n k i word c.args.code.now refl c.requires.codeword c.requires.begins (omega (arith, l, twice)))
    c.marks_of-marks.ensures.marks (λ p l f. c.patch.ensures p l (omega (arith, f, twice))) c.patch.auto.word
  where
    rest : (k : ℕ) (xs : List ℕ) → take (length xs - k) (drop k xs) ≡ drop k xs
    rest k xs = take_all (length xs - k) (drop k xs) (omega (arith, length-drop k xs))
