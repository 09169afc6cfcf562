-- Segments of which each symbol is replaced by another.
use Rattle.std.proofs.Common.{◌≡◌, ℕ, ℤ, pos, negsuc, ◌+◌, ◌-◌, ◌*◌, ◌/◌, ◌%◌, ◌<◌, ◌≤◌, ◌⊎◌, inl, inr, cond, nat_le}
use Rattle.std.proofs.Common.{nat_lt, ◌&&◌, List, [], length, map, get_or, ap, ◌∙◌, arith}
use Rattle.std.specs.List.{range_with_len}
use Rattle.std.proofs.lemmas.Bool.{and_from, and_left, and_right, cond-true, cond-false, le-leb, le-ltb, leb-true}
use Rattle.std.proofs.lemmas.Bool.{lt-leb, lt-ltb}
use Rattle.std.proofs.lemmas.List.{take_all}
use Rattle.std.proofs.lemmas.List.FromFn.{get_or-map-range_with_len, length-map-range_with_len}
use Rattle.dtx_slice.specs.Slicing.{sliced}
use Rattle.dtx_coder.specs.Stream.{a53}
use Rattle.dtx_chain.specs.Damage.{AreReceived}
use Rattle.dtx_bursts.specs.Burst.{symbol_at, symbol_level}

-- so many segments of 832 symbols each
pub replaced : (ℕ → ℤ) → ℕ → List (List ℤ)
replaced f n = map (λ i. map (λ k. f (832 * i + k)) (range_with_len 0 832)) (range_with_len 0 n)

pub length-replaced : (f : ℕ → ℤ) (n : ℕ) → length (replaced f n) ≡ n
unfolding replaced
length-replaced f n = length-map-range_with_len (λ i. map (λ k. f (832 * i + k)) (range_with_len 0 832)) 0 n

segment_replaced : (f : ℕ → ℤ) (n i : ℕ) → i < n
    → get_or (replaced f n) i [] ≡ map (λ k. f (832 * i + k)) (range_with_len 0 832)
unfolding replaced
segment_replaced f n i l =
    get_or-map-range_with_len (λ i. map (λ k. f (832 * i + k)) (range_with_len 0 832)) 0 n i i [] l (omega arith)

pub whole_replaced : (f : ℕ → ℤ) (n i : ℕ) → i < length (replaced f n) → length (get_or (replaced f n) i []) ≡ 832
whole_replaced f n i l = grind (arith, segment_replaced, length-replaced, length-map-range_with_len)

pub symbol_replaced : (f : ℕ → ℤ) (n p : ℕ) → p < 832 * n → symbol_at (replaced f n) p ≡ f p
symbol_replaced f n p l = ap (λ (x : List ℤ). get_or x (p % 832) (pos 0)) (segment_replaced f n (p / 832) (omega arith))
    ∙ get_or-map-range_with_len (λ k. f (832 * (p / 832) + k)) 0 832 (p % 832) (p % 832) (pos 0) (omega arith)
    (omega arith) ∙ ap f (omega arith)

pub are_replaced : (ps : List (List ℕ)) (f : ℕ → ℤ) → AreReceived ps 0 (a53 ps) (replaced f (length (a53 ps)))
are_replaced ps f = grind (arith, take_all, length-replaced, whole_replaced)

-- a level is one of eight
sliced_eight : (v : ℤ) → sliced v < 8
unfolding sliced
sliced_eight (pos n) = grind (arith, leb-true)
sliced_eight (negsuc n) = grind arith

pub level_eight : (run : List (List ℤ)) (p : ℕ) → symbol_level run p < 8
unfolding symbol_level
level_eight run p = sliced_eight (symbol_at run p)

-- ---- so many in a row

-- one symbol inside the row, and another outside of it
pub row : (count from : ℕ) (new old : ℕ → ℤ) → ℕ → ℤ
row count from new old p = cond (nat_le from p && nat_lt p (from + count)) (new p) (old p)

pub inside : (count from p : ℕ) (new old : ℕ → ℤ) → from ≤ p → p < from + count → row count from new old p ≡ new p
unfolding row
inside count from p new old l u = grind (arith, cond-true, and_from, le-leb, lt-ltb)

pub outside : (count from p : ℕ) (new old : ℕ → ℤ) → (p < from) ⊎ (from + count ≤ p) → row count from new old p ≡ old p
unfolding row
outside count from p new old (inl l) = grind (arith, cond-false, and_left, lt-leb)
outside count from p new old (inr u) = grind (arith, cond-false, and_right, le-ltb)
