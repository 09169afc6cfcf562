-- One step: from the nearer of each two levels to the least of all levels.
use Rattle.std.proofs.Common.{◌≡◌, ℕ, ℤ, ◌+◌, ◌*◌, ◌/◌, ◌%◌, ◌<◌, ◌≤◌, ◌⊎◌, inl, inr, min, List, get_or, sym, ap, ap₂}
use Rattle.std.proofs.Common.{◌∙◌, subst, arith}
use Rattle.std.proofs.lemmas.Bool.{cases_eq, cases_lt}
use Rattle.dtx_soft.specs.Paths.{next_state, squared, symbol_at}
use Rattle.dtx_soft.specs.declared.nearest.Nearest.{Nearest}
use Rattle.dtx_soft.specs.Nearest.{AreNearest, ComesFirst, IsNearest, IsTaken, IsTieBreak, cheapest, through}

-- what level z comes to: its squared distance and the potential of the state behind it
abbrev pub onto : ℕ → ℤ → List ℕ → ℕ → ℕ → ℕ
onto scale symbol behind state z = squared symbol (symbol_at scale z) + get_or behind (next_state state z) 0

-- of all levels that may follow a state the first one that comes to the least
pub record IsFirstLeast (scale : ℕ) (symbol : ℤ) (behind : List ℕ) (state z : ℕ) : Type 0 where
  pub small : z < 8
  pub begins : z % 2 ≡ state / 2
  pub least : (y : ℕ) → y < 8 → y % 2 ≡ state / 2
      → onto scale symbol behind state z ≤ onto scale symbol behind state y
  pub first : (y : ℕ) → y < 8 → y % 2 ≡ state / 2
      → onto scale symbol behind state y ≡ onto scale symbol behind state z → z ≤ y

next_alike : (state y z : ℕ) → y % 4 ≡ z % 4 → next_state state y ≡ next_state state z
unfolding next_state
next_alike state y z h = ap (λ x. 2 * ((x + state % 2) % 2) + state / 2) (omega arith)

-- what a pair of levels comes to
abbrev pub pair_onto : List ℕ → ℕ → ℕ → ℕ → ℕ
pair_onto behind state z square = square + get_or behind (next_state state z) 0

pub pair_is : {scale : ℕ} {symbol : ℤ} {z level square : ℕ} (behind : List ℕ) (state : ℕ)
    → IsNearest scale symbol z level square → onto scale symbol behind state level ≡ pair_onto behind state z square
pair_is behind state h = ap₂ (λ (x y : ℕ). x + get_or behind y 0) (sym h.exact) (next_alike state _ _ h.alike)

pair_below : {scale : ℕ} {symbol : ℤ} {z level square : ℕ} (behind : List ℕ) (state y : ℕ)
    → IsNearest scale symbol z level square → y < 8 → y % 4 ≡ z % 4
    → pair_onto behind state z square ≤ onto scale symbol behind state y
pair_below behind state y h l e = grind (arith, next_alike)

pair_first : {scale : ℕ} {symbol : ℤ} {z level square : ℕ} (behind : List ℕ) (state y : ℕ)
    → IsNearest scale symbol z level square → y < 8 → y % 4 ≡ z % 4
    → onto scale symbol behind state y ≡ pair_onto behind state z square → level ≤ y
pair_first behind state y h l e t = grind (arith, next_alike)

-- the two pairs of levels that may follow a state, of which the first is taken
pub record ArePairs (scale : ℕ) (symbol : ℤ) (behind : List ℕ) (state a b first second m n : ℕ) : Type 0 where
  pub begins : a % 2 ≡ state / 2
  pub all : (y : ℕ) → y % 2 ≡ state / 2 → (y % 4 ≡ a % 4) ⊎ (y % 4 ≡ b % 4)
  pub nearest : IsNearest scale symbol a first m
  pub other : IsNearest scale symbol b second n
  pub less : pair_onto behind state a m ≤ pair_onto behind state b n
  pub tie : pair_onto behind state a m ≡ pair_onto behind state b n → first ≤ second

pub taken_first : {scale : ℕ} {symbol : ℤ} {behind : List ℕ} {state a b first second m n : ℕ}
    → ArePairs scale symbol behind state a b first second m n → IsFirstLeast scale symbol behind state first
taken_first {scale} {symbol} {behind} {state} {a} {b} {first} {second} {m} {n} h = record {
  small = h.nearest.small;
  begins = (let e : first % 4 ≡ a % 4 = h.nearest.alike in let f : a % 2 ≡ state / 2 = h.begins in omega arith);
  least = λ y l e. elim (h.all y e) [
    | inl e ↦ subst (λ x. x ≤ onto scale symbol behind state y) (sym value) (pair_below behind state y h.nearest l e)
    | inr e ↦
        let p : pair_onto behind state b n ≤ onto scale symbol behind state y = pair_below behind state y h.other l e in
        omega (arith, value, h.less)
  ];
  first = λ y l e t. first_of_all y l (h.all y e) t;
}
  where
    value : onto scale symbol behind state first ≡ pair_onto behind state a m
    value = pair_is behind state h.nearest

    first_of_all : (y : ℕ) → y < 8 → (y % 4 ≡ a % 4) ⊎ (y % 4 ≡ b % 4)
        → onto scale symbol behind state y ≡ onto scale symbol behind state first → first ≤ y
    first_of_all y l (inl e) t = pair_first behind state y h.nearest l e (t ∙ value)
    first_of_all y l (inr e) t =
        let p : pair_onto behind state b n ≤ onto scale symbol behind state y = pair_below behind state y h.other l e in
        let q : pair_onto behind state a m ≡ pair_onto behind state b n = omega (arith, value, h.less) in
        let r : second ≤ y = pair_first behind state y h.other l e (t ∙ value ∙ q) in
        omega (arith, h.tie q)

pairs_of : (scale : ℕ) (symbol : ℤ) (row : Nearest) (behind : List ℕ) (state a b : ℕ) → AreNearest scale symbol row
    → state < 4 → a < 4 → b < 4 → a % 2 ≡ state / 2 → b % 2 ≡ state / 2
    → ((y : ℕ) → y % 2 ≡ state / 2 → (y % 4 ≡ a % 4) ⊎ (y % 4 ≡ b % 4)) → ComesFirst row behind state a b
    → IsFirstLeast scale symbol behind state (get_or row.levels a 0)
pairs_of scale symbol row behind state a b h l la lb ma mb all first =
    let pairs : ArePairs scale symbol behind state a b (get_or row.levels a 0) (get_or row.levels b 0)
    (get_or row.squares a 0) (get_or row.squares b 0) = grind arith in
    taken_first pairs

either : (state y : ℕ) → state < 4 → y % 2 ≡ state / 2 → (y % 4 ≡ state / 2 % 4) ⊎ (y % 4 ≡ (state / 2 + 2) % 4)
either state y l e = grind (arith, cases_eq)

swapped : {P Q : Type 0} → P ⊎ Q → Q ⊎ P
swapped (inl p) = inr p
swapped (inr q) = inl q

low_first : (scale : ℕ) (symbol : ℤ) (row : Nearest) (behind : List ℕ) (state : ℕ) → AreNearest scale symbol row
    → state < 4 → ComesFirst row behind state (state / 2) (state / 2 + 2)
    → IsFirstLeast scale symbol behind state (get_or row.levels (state / 2) 0)
low_first scale symbol row behind state h l first =
    pairs_of scale symbol row behind state (state / 2) (state / 2 + 2) h l (omega arith) (omega arith) (omega arith)
    (omega arith) (λ y e. either state y l e) first

high_first : (scale : ℕ) (symbol : ℤ) (row : Nearest) (behind : List ℕ) (state : ℕ) → AreNearest scale symbol row
    → state < 4 → ComesFirst row behind state (state / 2 + 2) (state / 2)
    → IsFirstLeast scale symbol behind state (get_or row.levels (state / 2 + 2) 0)
high_first scale symbol row behind state h l first =
    pairs_of scale symbol row behind state (state / 2 + 2) (state / 2) h l (omega arith) (omega arith) (omega arith)
    (omega arith) (λ y e. swapped (either state y l e)) first

-- the level of the pair that is taken
pub taken_first_least : (scale : ℕ) (symbol : ℤ) (row : Nearest) (behind : List ℕ) (state pair : ℕ)
    → AreNearest scale symbol row → state < 4 → IsTaken row behind state pair
    → IsFirstLeast scale symbol behind state (get_or row.levels (state / 2 + 2 * pair) 0)
taken_first_least scale symbol row behind state pair h l (inl c) =
    let at : state / 2 + 2 * pair ≡ state / 2 = omega (arith, c.0) in
    subst (λ z. IsFirstLeast scale symbol behind state (get_or row.levels z 0)) (sym at)
    (low_first scale symbol row behind state h l c.1)
taken_first_least scale symbol row behind state pair h l (inr c) =
    subst (λ z. IsFirstLeast scale symbol behind state (get_or row.levels z 0)) (sym at)
    (high_first scale symbol row behind state h l c.1)
  where
    at : state / 2 + 2 * pair ≡ state / 2 + 2
    at = omega (arith, c.0)

-- the state behind that level
pub next_taken : (scale : ℕ) (symbol : ℤ) (row : Nearest) (state z : ℕ) → AreNearest scale symbol row → z < 4
    → next_state state (get_or row.levels z 0) ≡ next_state state z
next_taken scale symbol row state z h l = next_alike state (get_or row.levels z 0) z (h.each z l).alike

-- of two costs the second is taken where it is less, or where it is as much and its level comes first
pub by_tie : (a b m n tie : ℕ) → IsTieBreak m n tie → ((b < a + tie) × ((b ≤ a) × (b ≡ a → n ≤ m)))
    ⊎ ((a + tie ≤ b) × ((a ≤ b) × (a ≡ b → m ≤ n)))
by_tie a b m n tie h = grind (arith, cases_lt)

-- a bit that says so
pub bit_taken : (row : Nearest) (behind : List ℕ) (state tie bit : ℕ)
    → IsTieBreak (get_or row.levels (state / 2) 0) (get_or row.levels (state / 2 + 2) 0) tie
    → ((through row behind state (state / 2 + 2) < through row behind state (state / 2) + tie) × (bit ≡ 1))
    ⊎ ((through row behind state (state / 2) + tie ≤ through row behind state (state / 2 + 2)) × (bit ≡ 0))
    → IsTaken row behind state bit
bit_taken row behind state tie bit h b = grind (arith, by_tie)

-- some level is the first least, and it comes to the potential
pub cheapest_is : (scale : ℕ) (symbol : ℤ) (row : Nearest) (behind : List ℕ) (state : ℕ) → AreNearest scale symbol row
    → state < 4 → (z : ℕ) × IsFirstLeast scale symbol behind state z
    × (cheapest row behind state ≡ onto scale symbol behind state z)
cheapest_is scale symbol row behind state h l =
    by_order (cases (through row behind state (state / 2)) (through row behind state (state / 2 + 2))
    (get_or row.levels (state / 2) 0) (get_or row.levels (state / 2 + 2) 0))
  where
    cases : (a b m n : ℕ) → ((a ≤ b) × (a ≡ b → m ≤ n)) ⊎ ((b ≤ a) × (b ≡ a → n ≤ m))
    cases a b m n = grind (arith, cases_lt)

    by_order : ComesFirst row behind state (state / 2) (state / 2 + 2)
        ⊎ ComesFirst row behind state (state / 2 + 2) (state / 2) → (z : ℕ) × IsFirstLeast scale symbol behind state z
        × (cheapest row behind state ≡ onto scale symbol behind state z)
    by_order (inl first) = (
      get_or row.levels (state / 2) 0,
      low_first scale symbol row behind state h l first,
      least (first.0) ∙ sym (pair_is behind state (h.each (state / 2) (omega arith))),
    )
      where
        least : {a b : ℕ} → a ≤ b → min a b ≡ a
        least k = omega arith
    by_order (inr first) = (
      get_or row.levels (state / 2 + 2) 0,
      high_first scale symbol row behind state h l first,
      least (first.0) ∙ sym (pair_is behind state (h.each (state / 2 + 2) (omega arith))),
    )
      where
        least : {a b : ℕ} → b ≤ a → min a b ≡ b
        least k = omega arith

-- the state behind a pair of levels, from the state's two bits
pub next_pair : (q1 q0 pair : ℕ) → q1 < 2 → q0 < 2 → pair < 2
    → 2 * ((pair + q0) % 2) + q1 ≡ next_state (2 * q1 + q0) (q1 + 2 * pair)
unfolding next_state
next_pair q1 q0 pair k l m = grind arith
