use Rattle.std.proofs.Common.{◌≡◌, ℕ, ℤ, pos, ◌+◌, ◌<◌, ◌≤◌, ◌⊎◌, inl, inr, cond, List, get_or, map, slice_set, sum}
use Rattle.std.proofs.Common.{sym, ap, ap₂, ◌∙◌, w8, arith, rules}
use mir.Val.{SFits}
use Rattle.std.specs.List.{range_with_len}
use Rattle.std.specs.Ordering.{int_eq}
use Rattle.std.proofs.lemmas.Bool.{cases_lt}
use Rattle.std.proofs.lemmas.Int.{to_z-of_z}
use Rattle.std.proofs.lemmas.Grind.{get_or-set_at}
use Rattle.std.proofs.lemmas.List.{get_or-set_other, length-set, set-get_or}
use Rattle.dtx_pins.specs.PinnedField.{moved_in}
use Rattle.dtx_pins.proofs.MovedSums.{moved_more}
use Rattle.dtx_pins.proofs.forth.move_symbols.Goals as goal

-- 1 where symbols differ
abbrev differs : ℤ → ℤ → ℕ
differs a b = cond (int_eq a b) 0 1

pub loop-k-preserved : goal.loop-k-preserved
loop-k-preserved c = record {
  long = length-set c.loop-k.segment c.loop-k.k place ∙ c.loop-k.invariant.long;
  sync = λ j l. other j (omega (arith, l)) ∙ c.loop-k.invariant.sync j l;
  done = λ j l m. by_place j l m (cases_lt j c.loop-k.k);
  left = λ j l. get_or-set_other c.loop-k.segment c.loop-k.k j place (pos 0) (λ e. absurd (omega (arith, l, e)))
      ∙ c.loop-k.invariant.left j (omega (arith, l));
  moved = moved_more (λ j. differs (get_or c.args.segment.now j (pos 0)) (get_or c.loop-k.segment j (pos 0)))
      (λ j. differs (get_or c.args.segment.now j (pos 0)) (get_or new j (pos 0))) c.loop-k.k c.loop-k.moved
      c.put_symbol-moved.result (λ j l. ap (differs (get_or c.args.segment.now j (pos 0))) (other j l))
      c.loop-k.invariant.moved
      (c.put_symbol-moved.ensures.moved
      ∙ ap₂ differs (c.loop-k.invariant.left c.loop-k.k (omega arith))
      (sym (here c.loop-k.k (omega arith) ∙ c.put_symbol-moved.ensures.put)));
  most = omega (arith, c.loop-k.invariant.most, c.put_symbol-moved.ensures.most);
  still = λ e. ap (slice_set c.loop-k.segment c.loop-k.k) (c.put_symbol-moved.ensures.still (omega (arith, e)))
      ∙ set-get_or c.loop-k.segment c.loop-k.k (pos 0) ∙ c.loop-k.invariant.still (omega (arith, e));
}
  where
    place : ℤ
    place = c.put_symbol-moved.new.place

    new : List ℤ
    new = slice_set c.loop-k.segment c.loop-k.k place

    fits : SFits w8 (get_or c.args.path.now c.loop-k.k (pos 0))
    fits = search rules

    other : (j : ℕ) → j < c.loop-k.k → get_or new j (pos 0) ≡ get_or c.loop-k.segment j (pos 0)
    other j l = get_or-set_other c.loop-k.segment c.loop-k.k j place (pos 0) (λ e. absurd (omega (arith, l, e)))

    here : (j : ℕ) → j ≡ c.loop-k.k → get_or new j (pos 0) ≡ place
    here j e =
        get_or-set_at c.loop-k.segment c.loop-k.k j place (pos 0) e (omega (arith, c.loop-k.invariant.long))

    by_place : (j : ℕ) → 4 ≤ j → j < c.loop-k.k + 1 → (j < c.loop-k.k) ⊎ (c.loop-k.k ≤ j)
        → get_or new j (pos 0) ≡ get_or c.args.path.now j (pos 0)
    by_place j l m (inl before) = other j before ∙ c.loop-k.invariant.done j l before
    by_place j l m (inr there) =
        let same : j ≡ c.loop-k.k = omega (arith, m, there) in
        here j same ∙ c.put_symbol-moved.ensures.put
        ∙ to_z-of_z w8 (get_or c.args.path.now c.loop-k.k (pos 0)) fits
        ∙ ap (λ j. get_or c.args.path.now j (pos 0)) (sym same)

pub returns-clause-moved : goal.returns-clause-moved
unfolding moved_in
returns-clause-moved c =
    let all : c.loop-k.k ≡ 832 = omega arith in
    c.loop-k.invariant.moved
    ∙ ap (λ n. sum (map (λ j. differs (get_or c.args.segment.now j (pos 0)) (get_or c.loop-k.segment j (pos 0)))
    (range_with_len 0 n))) all
