use Rattle.std.proofs.Common.{◌≡◌, ◌+◌, ◌*◌, ◌≤◌, ℕ, ℤ, true, false, List, [], length, refl, ap, arith}
use Rattle.std.proofs.lemmas.Bool.{false≢true}
use Rattle.dtx_level.specs.Shown.{shows}
use Rattle.dtx_level.proofs.Ending.{stands_first}
use Rattle.dtx_level.proofs.leveller.Leveller.new.Goals as goal

first_kept : (held : List ℤ) (syncs slips last : ℕ) → held ≡ [] → syncs ≡ 0 → slips ≡ 0 → last ≡ 0
    → (832 * syncs + length held ≤ 0) × (0 ≤ 520832000000) × (slips ≤ syncs) × (last + length held ≤ 0)
    × (0 + length held ≤ 0) × (false ≡ true → shows held 0 ≡ true)
first_kept held syncs slips last e s l k =
    let none = ap length e in (
      omega (arith, none, s),
      omega arith,
      omega (arith, l),
      omega (arith, none, k),
      omega (arith, none),
      λ f. absurd (false≢true f),
    )

pub invariant_of-result : goal.invariant_of-result
invariant_of-result c =
    first_kept c.in_ok-new.field-0 c.new-4.result.syncs c.new-4.result.slips c.new-4.result.last c.in_ok-new.ensures
    c.new-4.ensures.syncs c.new-4.ensures.slips c.new-4.ensures.last

pub returns-clause-stands : goal.returns-clause-stands
returns-clause-stands c =
    stands_first _ c.in_ok-new.ensures refl c.in_ok-new-2.ensures.levels refl refl
    c.new-4.ensures.syncs c.new-4.ensures.slips
