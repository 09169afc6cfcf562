use Rattle.std.proofs.Common.{◌≡◌, ℕ, ◌+◌, ◌<◌, ◌≤◌, pos, cond, get_or, length, map, sum}
use Rattle.std.specs.List.{range_with_len}
use Rattle.std.specs.Ordering.{int_eq}
use Rattle.dtx_pins.proofs.forth.move_symbols.Given as goal

abbrev pub invariant-loop-k : goal.invariant-loop-k
invariant-loop-k l = record {
  long : length l.segment ≡ 832;
  sync : (j : ℕ) → j < 4 → get_or l.segment j (pos 0) ≡ get_or l.fn.segment j (pos 0);
  done : (j : ℕ) → 4 ≤ j → j < l.k → get_or l.segment j (pos 0) ≡ get_or l.path j (pos 0);
  left : (j : ℕ) → l.k ≤ j → get_or l.segment j (pos 0) ≡ get_or l.fn.segment j (pos 0);
  moved : l.moved
      ≡ sum (map (λ j. cond (int_eq (get_or l.fn.segment j (pos 0)) (get_or l.segment j (pos 0))) 0 1)
      (range_with_len 0 l.k));
  most : l.moved + 4 ≤ l.k;
  still : l.moved ≡ 0 → l.segment ≡ l.fn.segment;
}
