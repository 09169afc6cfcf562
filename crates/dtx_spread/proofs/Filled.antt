-- Sixteen rows, filled one after another.
use Rattle.std.proofs.Common.{◌≡◌, ℕ, ◌+◌, ◌<◌, List, [], length, get_or, set, arith}
use Rattle.std.proofs.lemmas.Bool.{cases_eq}
use Rattle.std.proofs.lemmas.List.{length-set, get_or-set_same, get_or-set_other}

-- each row below n has sixteen bytes, of which byte c, below w, is f i c
pub record AreFilled (n w : ℕ) (f : ℕ → ℕ → ℕ) (rows : List (List ℕ)) : Type 0 where
  pub count : length rows ≡ 16
  pub long : (i : ℕ) → i < n → length (get_or rows i []) ≡ 16
  pub bytes : (i c : ℕ) → i < n → c < w → get_or (get_or rows i []) c 0 ≡ f i c

pub filled_more : (n w : ℕ) (f : ℕ → ℕ → ℕ) (rows : List (List ℕ)) (row : List ℕ) → n < 16 → AreFilled n w f rows
    → length row ≡ 16 → ((c : ℕ) → c < w → get_or row c 0 ≡ f n c) → AreFilled (n + 1) w f (set rows n row)
filled_more n w f rows row ln h k g = grind (arith, length-set, cases_eq, get_or-set_same, get_or-set_other)

-- and sixteen rows stay of sixteen bytes
pub long_more : (n i : ℕ) (rows : List (List ℕ)) (row : List ℕ) → n < length rows → length row ≡ 16
    → length (get_or rows i []) ≡ 16 → length (get_or (set rows n row) i []) ≡ 16
long_more n i rows row l h k = grind (arith, cases_eq, get_or-set_same, get_or-set_other)
