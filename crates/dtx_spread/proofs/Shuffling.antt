-- Tiles whose rows are taken in turn.
use Rattle.std.proofs.Common.{◌≡◌, ℕ, ◌+◌, ◌*◌, ◌/◌, ◌%◌, ◌<◌, ◌≤◌, ◌⊎◌, ◌==◌, ◌&&◌, inl, inr, cond, Bool, true, List}
use Rattle.std.proofs.Common.{[], ◌∷◌, ◌++◌, length, get_or, set, map, refl, sym, ap, ap₂, subst, ◌∙◌, arith}
use Rattle.std.proofs.lemmas.Bool.{cases_eq, agree_below, agree_below_at, and_parts, eqb-true, cond-true, cond-false}
use Rattle.std.proofs.lemmas.Bool.{eq-eqb, ne_eqb}
use Rattle.std.proofs.lemmas.List.{get_or_append_left, get_or-append_right, get_or-map}
use Rattle.dtx_spread.proofs.Filled.{AreFilled, filled_more}

-- ---- two rows taken in turn, from place s on

-- the lanes, as a test at each place
unfoldable pub in_turn : ℕ → List ℕ → ℕ → Bool
in_turn s ks j = get_or ks j 0 == s + j / 2 + cond (j % 2 == 0) 0 16

pub picked : (s : ℕ) (a b ks : List ℕ) → length a ≡ 16 → length ks ≡ 16 → s ≤ 8
    → agree_below (in_turn s ks) (λ _. true) 16 ≡ true → (j : ℕ) → j < 16
    → get_or (map (λ k. get_or (a ++ b) k 0) ks) j 0 ≡ get_or (cond (j % 2 == 0) a b) (s + j / 2) 0
unfolding in_turn
picked s a b ks la lk ls t j l = get_or-map (λ k. get_or (a ++ b) k 0) ks j 0 0 (omega arith)
    ∙ ap (λ k. get_or (a ++ b) k 0) (eqb-true (get_or ks j 0) (s + j / 2 + cond (j % 2 == 0) 0 16)
    (agree_below_at (in_turn s ks) (λ _. true) 16 j t l)) ∙ by_cases (cases_eq (j % 2) 0)
  where
    by_cases : (j % 2 ≡ 0) ⊎ (j % 2 ≡ 0 → ⊥)
        → get_or (a ++ b) (s + j / 2 + cond (j % 2 == 0) 0 16) 0 ≡ get_or (cond (j % 2 == 0) a b) (s + j / 2) 0
    by_cases (inl e) = grind (arith, cond-true, eq-eqb, get_or_append_left)
    by_cases (inr n) = grind (arith, cond-false, ne_eqb, get_or-append_right)

pub low_lanes : agree_below (in_turn 0 (0 ∷ 16 ∷ 1 ∷ 17 ∷ 2 ∷ 18 ∷ 3 ∷ 19 ∷ 4 ∷ 20 ∷ 5 ∷ 21 ∷ 6 ∷ 22 ∷ 7 ∷ 23 ∷ []))
    (λ _. true) 16 ≡ true
unfolding in_turn
low_lanes = refl

pub high_lanes : agree_below
    (in_turn 8 (8 ∷ 24 ∷ 9 ∷ 25 ∷ 10 ∷ 26 ∷ 11 ∷ 27 ∷ 12 ∷ 28 ∷ 13 ∷ 29 ∷ 14 ∷ 30 ∷ 15 ∷ 31 ∷ [])) (λ _. true) 16 ≡ true
unfolding in_turn
high_lanes = refl

-- ---- one pair of rows more

-- byte j of row i of a shuffled tile
abbrev pub shuffled_byte : List (List ℕ) → ℕ → ℕ → ℕ
shuffled_byte tile i j = get_or (get_or tile (i / 2 + 8 * (j % 2)) []) (8 * (i % 2) + j / 2) 0

one_row : (n m s : ℕ) (tile rows : List (List ℕ)) (row : List ℕ) → n ≡ 2 * m + s → s < 2 → n < 16
    → AreFilled n 16 (shuffled_byte tile) rows → length row ≡ 16 → ((j : ℕ) → j < 16
    → get_or row j 0 ≡ get_or (cond (j % 2 == 0) (get_or tile m []) (get_or tile (m + 8) [])) (8 * s + j / 2) 0)
    → AreFilled (n + 1) 16 (shuffled_byte tile) (set rows n row)
one_row n m s tile rows row e ls ln h k f = filled_more n 16 (shuffled_byte tile) rows row ln h k (λ j l.
    f j l ∙ chosen j (cases_eq (j % 2) 0)
    ∙ ap₂ (λ x y. get_or (get_or tile (x + 8 * (j % 2)) []) (8 * y + j / 2) 0) (sym (omega arith)) (sym (omega arith)))
  where
    chosen : (j : ℕ) → (j % 2 ≡ 0) ⊎ (j % 2 ≡ 0 → ⊥)
        → get_or (cond (j % 2 == 0) (get_or tile m []) (get_or tile (m + 8) [])) (8 * s + j / 2) 0
        ≡ get_or (get_or tile (m + 8 * (j % 2)) []) (8 * s + j / 2) 0
    chosen j (inl p) = grind (arith, cond-true, eq-eqb)
    chosen j (inr p) = grind (arith, cond-false, ne_eqb)

pub two_rows : (m : ℕ) (tile rows : List (List ℕ)) (first second : List ℕ) → m < 8
    → AreFilled (2 * m) 16 (shuffled_byte tile) rows → length first ≡ 16 → length second ≡ 16 → ((j : ℕ) → j < 16
    → get_or first j 0 ≡ get_or (cond (j % 2 == 0) (get_or tile m []) (get_or tile (m + 8) [])) (j / 2) 0)
    → ((j : ℕ) → j < 16
    → get_or second j 0 ≡ get_or (cond (j % 2 == 0) (get_or tile m []) (get_or tile (m + 8) [])) (8 + j / 2) 0)
    → AreFilled (2 * (m + 1)) 16 (shuffled_byte tile) (set (set rows (2 * m) first) (2 * m + 1) second)
two_rows m tile rows first second l h k n f g =
    subst (λ (x : ℕ). AreFilled x 16 (shuffled_byte tile) (set (set rows (2 * m) first) (2 * m + 1) second))
    (omega arith)
    (one_row (2 * m + 1) m 1 tile (set rows (2 * m) first) second (omega arith) (omega arith) (omega arith)
    (one_row (2 * m) m 0 tile rows first (omega arith) (omega arith) (omega arith) h k (λ j q. grind arith)) n g)

-- ---- four of them

-- where the byte at a place comes from
abbrev pub source : ℕ × ℕ → ℕ × ℕ
source p = (p.0 / 2 + 8 * (p.1 % 2), 8 * (p.0 % 2) + p.1 / 2)

abbrev four_test : ℕ → ℕ → Bool
four_test i j = ((source (source (source (source (i, j))))).0 == j)
    && ((source (source (source (source (i, j))))).1 == i)

abbrev row_test : ℕ → Bool
row_test i = agree_below (four_test i) (λ _. true) 16

four : (i j : ℕ) → i < 16 → j < 16
    → ((source (source (source (source (i, j))))).0 ≡ j) × ((source (source (source (source (i, j))))).1 ≡ i)
four i j l m = grind (arith, and_parts, agree_below_at, eqb-true)

abbrev pub Shuffles : List (List ℕ) → List (List ℕ) → Type 0
Shuffles tile rows = (i j : ℕ) → i < 16 → j < 16
    → get_or (get_or rows i []) j 0 ≡ get_or (get_or tile (i / 2 + 8 * (j % 2)) []) (8 * (i % 2) + j / 2) 0

on : (t u : List (List ℕ)) → Shuffles t u → (p : ℕ × ℕ) → p.0 < 16 → p.1 < 16
    → get_or (get_or u p.0 []) p.1 0 ≡ get_or (get_or t (source p).0 []) (source p).1 0
on t u f p l m = f p.0 p.1 l m

within : (p : ℕ × ℕ) → p.0 < 16 → p.1 < 16 → ((source p).0 < 16) × ((source p).1 < 16)
within p l m = (omega arith, omega arith)

pub turned_at : (t u v w x : List (List ℕ)) → Shuffles t u → Shuffles u v → Shuffles v w → Shuffles w x
    → (i j : ℕ) → i < 16 → j < 16 → get_or (get_or x i []) j 0 ≡ get_or (get_or t j []) i 0
turned_at t u v w x f g h k i j l m = grind (arith, within, on, four)
