use Rattle.std.proofs.Common.{◌≡◌, ℕ, ◌+◌, ◌==◌, ◌||◌, Bool, List, length, take, refl, sym, ap, ◌∙◌, arith}
use Rattle.std.proofs.lemmas.List.{length-set}
use Rattle.dtx_galois.specs.Field.{value, AreBytes}
use Rattle.dtx_galois.proofs.BytesLemmas.{AreBytes-from_places}
use Rattle.dtx_laws.specs.Locator.{others, is_marked, power_at}
use Rattle.dtx_erase.proofs.Restored.{few_zeros}
use Rattle.dtx_erase.proofs.Zeros.{itself, none_missed, one_more, left_over, some_left}
use Rattle.dtx_erase.proofs.marks.suspects.Goals as goal
use Rattle.dtx_erase.proofs.marks.suspects.Goals.{then-marks-place, else-marks-place}

pub loop-place-init : goal.loop-place-init
unfolding others
loop-place-init c = record {
  done = λ p l. absurd (omega (arith, l));
  left = omega arith;
  long = refl;
}

pub loop-place-preserved : goal.loop-place-preserved
loop-place-preserved c =
    let cs : List ℕ = c.args.coefficients.now in
    let n : ℕ = length c.args.marks.now in
    let l : ℕ = c.args.order in
    let q : ℕ = c.loop-place.place in
    let vanishes : ℕ → Bool =
    λ j. value (take (c.args.order + 1) c.args.coefficients.now) (power_at (length c.args.marks.now) j) == 0 in
    let bytes : AreBytes cs = AreBytes-from_places cs (λ i m. omega (arith, c.type_inv.coefficients i)) in
    let zero : c.is_zero-zero.result ≡ vanishes q =
    c.is_zero-zero.ensures
    ∙ none_missed n q l c.loop-place.left vanishes c.loop-place-test.true c.loop-place.invariant.left
    (few_zeros n l cs c.requires.few (omega (arith, c.requires.room)) bytes c.requires.highest) in
    let suspect : c.if-marks-place.all ≡ (is_marked c.args.marks.now q || vanishes q) =
    elim c.if-marks-place.branch [
      | then-marks-place w ↦ w.all-is ∙ itself (is_marked c.args.marks.now q) (vanishes q) w.if-marks-place.true
      | else-marks-place w ↦ w.all-is ∙ zero ∙ sym (ap (λ u. u || vanishes q) w.if-marks-place.false)
    ] in
    record {
      done = one_more (λ p. is_marked c.args.marks.now p || vanishes p) c.loop-place.all q c.if-marks-place.all
          (omega (arith, c.loop-place-test.true, c.loop-place.invariant.long, c.requires.few)) suspect
          c.loop-place.invariant.done;
      left = left_over n q l c.loop-place.left c.left_after-left.result vanishes c.is_zero-zero.result
          c.loop-place-test.true zero c.left_after-left.ensures (some_left c.loop-place.left _ _ c.is_zero-zero.ensures)
          c.loop-place.invariant.left;
      long = length-set c.loop-place.all q c.if-marks-place.all ∙ c.loop-place.invariant.long;
    }

pub returns-clause-bytes : goal.returns-clause-bytes
returns-clause-bytes c =
    AreBytes-from_places c.args.coefficients.now (λ i l. omega (arith, c.type_inv.coefficients i))
