-- The state that a least path starts from.
use Rattle.std.proofs.Common.{◌≡◌, ℕ, ℤ, pos, ◌+◌, ◌*◌, ◌<◌, ◌≤◌, ◌⊎◌, inl, inr, ◌+ℤ◌, ◌<ℤ◌, ◌≤ℤ◌, ◌==◌, cond, List}
use Rattle.std.proofs.Common.{get_or, sym, ap, ◌∙◌, subst, arith}
use Rattle.std.specs.Int.{int_min}
use Rattle.std.proofs.lemmas.Bool.{cases_lt}
use mir.Syntax.{Width}
use mir.Val.{SFits}
use Rattle.std.proofs.lemmas.Int.{ints, clamps, to_z-of_z}
use Rattle.dtx_soft.specs.declared.gaps.Gap.{Gap}
use Rattle.dtx_soft.specs.declared.trace.Stand.{Stand}
use Rattle.dtx_soft.specs.Gaps.{AreLeastGaps, HasGaps, SaysAbove, unit}
use Rattle.dtx_soft.specs.Least.{IsLeast, IsLeastFrom}
use Rattle.dtx_soft.specs.Paths.{IsPath, cost}
use Rattle.dtx_soft.specs.Trace.{IsStart}
use Rattle.dtx_soft.proofs.Paths.{least_is}
use Rattle.dtx_soft.proofs.Units.{less_in_units, same_in_units}
use Rattle.dtx_soft.proofs.WrapsLemmas.{read, sum_read}
use Rattle.dtx_soft.proofs.WritesLemmas.{four}

above_alike : {o n p m : ℤ} {bit : ℕ} → o ≡ p → n ≡ m → SaysAbove o n bit → SaysAbove p m bit
above_alike e f (inl h) = inl ((let l : _ <ℤ _ = h.0 in omega (arith, ints)), h.1)
above_alike e f (inr h) = inr ((let l : _ ≤ℤ _ = h.0 in omega (arith, ints)), h.1)

-- of numbers that were read
pub above_read : (w : Width) (o n : ℤ) {bit : ℕ} → SFits w o → SFits w n → SaysAbove (read w o) (read w n) bit
    → SaysAbove o n bit
above_read w o n f g = above_alike (to_z-of_z w o f) (to_z-of_z w n g)

pub above_sum : (w : Width) (o x y : ℤ) {bit : ℕ} → SFits w o → SFits w x → SFits w y → SFits w (x +ℤ y)
    → SaysAbove (read w o) (read w (read w x +ℤ read w y)) bit → SaysAbove o (x +ℤ y) bit
above_sum w o x y f g h k = above_alike (to_z-of_z w o f) (sum_read w _ _ x y (to_z-of_z w x g) (to_z-of_z w y h) k)

-- what is asked of four costs in units
abbrev Comes : ℕ → List ℕ → ℕ → Type 0
Comes n p s = (get_or p n 0 ≤ get_or p s 0) × (s < n → get_or p n 0 < get_or p s 0)

start_at : (gap : Gap ℤ) (stand : Stand) (n : ℕ) → n < 4 → stand.cost ≡ 0 → stand.q1 < 2 → stand.q0 < 2
    → 2 * stand.q1 + stand.q0 ≡ n → ((p : List ℕ) → pos (get_or p 0 0) ≡ pos (get_or p 2 0) +ℤ gap.even
    → pos (get_or p 1 0) ≡ pos (get_or p 3 0) +ℤ gap.odd → pos (get_or p 2 0) ≡ pos (get_or p 3 0) +ℤ gap.across
    → (s : ℕ) → s < 4 → Comes n p s) → IsStart gap stand
start_at gap stand n small c l m e by = record {
  q1 = l;
  q0 = m;
  cost = c;
  least = λ scale costs h s k. subst (λ n. get_or costs n 0 ≤ get_or costs s 0) (sym e) (least scale costs h s k);
  first = λ scale costs h s k t. subst (λ n. n ≤ s) (sym e) (first scale costs h s k
      (subst (λ n. get_or costs s 0 ≡ get_or costs n 0) e t));
}
  where
    less : (scale : ℕ) (costs : List ℕ) (h : HasGaps scale costs gap) (s : ℕ) → s < 4
        → get_or h.units n 0 < get_or h.units s 0 → get_or costs n 0 < get_or costs s 0
    less scale costs h s k =
        less_in_units (unit scale) (unit scale * h.lift) h.base (get_or costs n 0) (get_or costs s 0)
        (get_or h.units n 0) (get_or h.units s 0) (omega arith) (h.each n small) (h.each s k)

    same : (scale : ℕ) (costs : List ℕ) (h : HasGaps scale costs gap) (s : ℕ) → s < 4
        → get_or h.units n 0 ≡ get_or h.units s 0 → get_or costs n 0 ≡ get_or costs s 0
    same scale costs h s k =
        same_in_units (unit scale) (unit scale * h.lift) h.base (get_or costs n 0) (get_or costs s 0)
        (get_or h.units n 0) (get_or h.units s 0) (h.each n small) (h.each s k)

    comes : (scale : ℕ) (costs : List ℕ) (h : HasGaps scale costs gap) (s : ℕ) → s < 4 → Comes n h.units s
    comes scale costs h = by h.units h.even_is h.odd_is h.across_is

    least : (scale : ℕ) (costs : List ℕ) → HasGaps scale costs gap → (s : ℕ) → s < 4
        → get_or costs n 0 ≤ get_or costs s 0
    least scale costs h s k = by_order (cases_lt (get_or h.units n 0) (get_or h.units s 0))
      where
        by_order : (get_or h.units n 0 < get_or h.units s 0) ⊎ (get_or h.units s 0 ≤ get_or h.units n 0)
            → get_or costs n 0 ≤ get_or costs s 0
        by_order (inl o) = let a = less scale costs h s k o in omega arith
        by_order (inr o) = grind arith

    first : (scale : ℕ) (costs : List ℕ) → HasGaps scale costs gap → (s : ℕ) → s < 4
        → get_or costs s 0 ≡ get_or costs n 0 → n ≤ s
    first scale costs h s k t = by_order (cases_lt s n)
      where
        by_order : (s < n) ⊎ (n ≤ s) → n ≤ s
        by_order (inl o) = let a = less scale costs h s k ((comes scale costs h s k).1 o) in absurd (omega arith)
        by_order (inr o) = o

pub start_is : (gap : Gap ℤ) (stand : Stand) (first low_cost high_cost : ℤ) (low high : ℕ)
    → first ≡ gap.even +ℤ gap.across → low_cost ≡ int_min first gap.odd → high_cost ≡ int_min gap.across (pos 0)
    → SaysAbove gap.odd first low → SaysAbove (pos 0) gap.across high → SaysAbove high_cost low_cost stand.q1
    → stand.q0 ≡ cond (stand.q1 == 0) low high → stand.cost ≡ 0 → IsStart gap stand
start_is gap stand first low_cost high_cost low high e f g a (inl b) (inl q) h c =
    let i : stand.q0 ≡ 1 = h ∙ ap (λ n. cond (n == 0) low high) q.1 ∙ b.1 in
    let j : high_cost <ℤ low_cost = q.0 in
    let k : pos 0 <ℤ gap.across = b.0 in
    start_at gap stand 3 (omega arith) c (omega (arith, q.1)) (omega arith) (omega (arith, q.1, i))
    (λ p e0 e1 e2. four (Comes 3 p) ((omega (arith, ints, clamps)), λ l. omega (arith, ints, clamps))
    ((omega (arith, ints, clamps)), λ l. omega (arith, ints, clamps))
    ((omega (arith, ints, clamps)), λ l. omega (arith, ints, clamps)) ((omega arith), λ l. omega arith))
start_is gap stand first low_cost high_cost low high e f g a (inr b) (inl q) h c =
    let i : stand.q0 ≡ 0 = h ∙ ap (λ n. cond (n == 0) low high) q.1 ∙ b.1 in
    let j : high_cost <ℤ low_cost = q.0 in
    let k : gap.across ≤ℤ pos 0 = b.0 in
    start_at gap stand 2 (omega arith) c (omega (arith, q.1)) (omega arith) (omega (arith, q.1, i))
    (λ p e0 e1 e2. four (Comes 2 p) ((omega (arith, ints, clamps)), λ l. omega (arith, ints, clamps))
    ((omega (arith, ints, clamps)), λ l. omega (arith, ints, clamps)) ((omega arith), λ l. absurd (omega arith))
    ((omega (arith, ints, clamps)), λ l. absurd (omega arith)))
start_is gap stand first low_cost high_cost low high e f g (inl a) b (inr q) h c =
    let i : stand.q0 ≡ 1 = h ∙ ap (λ n. cond (n == 0) low high) q.1 ∙ a.1 in
    let j : low_cost ≤ℤ high_cost = q.0 in
    let k : gap.odd <ℤ first = a.0 in
    start_at gap stand 1 (omega arith) c (omega (arith, q.1)) (omega arith) (omega (arith, q.1, i))
    (λ p e0 e1 e2. four (Comes 1 p) ((omega (arith, ints, clamps)), λ l. omega (arith, ints, clamps))
    ((omega arith), λ l. absurd (omega arith)) ((omega (arith, ints, clamps)), λ l. absurd (omega arith))
    ((omega (arith, ints, clamps)), λ l. absurd (omega arith)))
start_is gap stand first low_cost high_cost low high e f g (inr a) b (inr q) h c =
    let i : stand.q0 ≡ 0 = h ∙ ap (λ n. cond (n == 0) low high) q.1 ∙ a.1 in
    let j : low_cost ≤ℤ high_cost = q.0 in
    let k : first ≤ℤ gap.odd = a.0 in
    start_at gap stand 0 (omega arith) c (omega (arith, q.1)) (omega arith) (omega (arith, q.1, i))
    (λ p e0 e1 e2. four (Comes 0 p) ((omega arith), λ l. absurd (omega arith))
    ((omega (arith, ints, clamps)), λ l. absurd (omega arith)) (grind (arith, ints, clamps))
    ((omega (arith, ints, clamps)), λ l. absurd (omega arith)))

-- a least path from that state is a least one of all
pub least_from_start : (scale : ℕ) (symbols : List ℤ) (gap : Gap ℤ) (stand : Stand) (levels : List ℕ)
    → IsStart gap stand → AreLeastGaps scale symbols gap → IsLeastFrom scale symbols (2 * stand.q1 + stand.q0) levels
    → IsLeast scale symbols (2 * stand.q1 + stand.q0) levels
least_from_start scale symbols gap stand levels s p h = record {
  begins = (let l = s.q1 in let m = s.q0 in omega arith);
  long = h.long;
  path = h.path;
  least = λ state others l n path.
      let a = s.least scale p.potentials p.gaps state l in
      let b = (p.least state l).below others n path in
      omega (arith, value, a, b);
  first = λ state others l n path e. elim (cases_lt (2 * stand.q1 + stand.q0) state) [
    | inl o ↦ inl o
    | inr o ↦
        let a = s.least scale p.potentials p.gaps state l in
        let b = (p.least state l).below others n path in
        let c = s.first scale p.potentials p.gaps state l (omega (arith, value, a, b, e)) in
        let same : 2 * stand.q1 + stand.q0 ≡ state = omega (arith, c, o) in
        inr (same, h.first others n (subst (λ s. IsPath s others) (sym same) path) e)
  ];
}
  where
    value : cost scale symbols levels ≡ get_or p.potentials (2 * stand.q1 + stand.q0) 0
    value = least_is scale symbols (2 * stand.q1 + stand.q0) (get_or p.potentials (2 * stand.q1 + stand.q0) 0) levels
        (p.least (2 * stand.q1 + stand.q0) (let l = s.q1 in let m = s.q0 in omega arith)) h
