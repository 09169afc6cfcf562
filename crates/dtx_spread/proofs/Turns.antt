-- Which byte comes to which branch, and how many come to it.
use Rattle.std.proofs.Common.{◌≡◌, ◌≢◌, ℕ, ◌+◌, ◌-◌, ◌*◌, ◌/◌, ◌%◌, ◌<◌, ◌≤◌, ◌⊎◌, nat_le, nat_lt, cond, inl, inr, sym}
use Rattle.std.proofs.Common.{ap, ◌∙◌, arith, add-mul, mul-le-mul_right, div-add-mod'}
use Rattle.std.proofs.lemmas.Bool.{cases_lt, cond-true, cond-false, le-leb, lt-leb, lt-ltb, le-ltb}
use Rattle.std.proofs.lemmas.Nat.{div-mul-add, mod-mul-add, mod_below}
use Rattle.dtx_spread.specs.Rings.{branch_at, count_of, count_at}

-- the place of branch i
pub place_of : ℕ → ℕ → ℕ → ℕ
place_of b next i = cond (nat_le next i) (i - next) (i + b - next)

-- whether its first byte comes a turn later than that of the branches behind `next`
pub later : ℕ → ℕ → ℕ
later next i = cond (nat_le next i) 0 1

pub place_from : (b next i : ℕ) → next ≤ i → place_of b next i ≡ i - next
unfolding place_of
place_from b next i l = cond-true (nat_le next i) (i - next) (i + b - next) (le-leb next i l)

pub place_before : (b next i : ℕ) → i < next → place_of b next i ≡ i + b - next
unfolding place_of
place_before b next i l = cond-false (nat_le next i) (i - next) (i + b - next) (lt-leb next i l)

pub later_from : (next i : ℕ) → next ≤ i → later next i ≡ 0
unfolding later
later_from next i l = cond-true (nat_le next i) 0 1 (le-leb next i l)

pub later_before : (next i : ℕ) → i < next → later next i ≡ 1
unfolding later
later_before next i l = cond-false (nat_le next i) 0 1 (lt-leb next i l)

pub branch_on : (b next p : ℕ) → next + p < b → branch_at b next p ≡ next + p
branch_on b next p l = cond-true (nat_lt (next + p) b) (next + p) (next + p - b) (lt-ltb (next + p) b l)

pub branch_round : (b next p : ℕ) → b ≤ next + p → branch_at b next p ≡ next + p - b
branch_round b next p l = cond-false (nat_lt (next + p) b) (next + p) (next + p - b) (le-ltb (next + p) b l)

pub branch_less : (b next p : ℕ) → next < b → p < b → branch_at b next p < b
branch_less b next p l k = grind (arith, cases_lt, branch_on, branch_round)

pub branch_other : (b next p q : ℕ) → next < b → p < b → q < b → p ≢ q → branch_at b next p ≢ branch_at b next q
branch_other b next p q l k m n = grind (arith, cases_lt, branch_on, branch_round)

pub place_less : (b next i : ℕ) → next < b → i < b → place_of b next i < b
place_less b next i l k = grind (arith, cases_lt, place_before, place_from)

-- the branch at the place of branch i is branch i
pub branch_there : (b next i : ℕ) → next < b → i < b → branch_at b next (place_of b next i) ≡ i
branch_there b next i l k = grind (arith, cases_lt, place_before, branch_round, place_from, branch_on)

-- where byte k goes: its branch, and at which turn of this branch
pub record IsTurn (b next k : ℕ) : Type 0 where
  pub branch : branch_at b next (k % b) ≡ (next + k) % b
  pub place : place_of b next ((next + k) % b) ≡ k % b
  pub turn : (next + k) / b ≡ k / b + later next ((next + k) % b)

pub turns : (b next k : ℕ) → next < b → IsTurn b next k
turns b next k l = elim (cases_lt (next + k % b) b) [
  | inl h ↦
      let e : next + k ≡ k / b * b + (next + k % b) = omega arith in
      let m : (next + k) % b ≡ next + k % b = ap (λ x. x % b) e ∙ mod-mul-add (k / b) b (next + k % b) h in
      let d : (next + k) / b ≡ k / b = ap (λ x. x / b) e ∙ div-mul-add (k / b) b (next + k % b) h in
      record {
        branch = branch_on b next (k % b) h ∙ sym m;
        place = ap (place_of b next) m ∙ place_from b next (next + k % b) (omega arith) ∙ omega arith;
        turn = omega (arith, d, ap (later next) m, later_from next (next + k % b) (omega arith));
      }
  | inr h ↦
      let r : k % b < b = mod_below k b (omega arith) in
      let e : next + k ≡ (k / b + 1) * b + (next + k % b - b) = omega (arith, add-mul (k / b) 1 b) in
      let m : (next + k) % b ≡ next + k % b - b =
      ap (λ x. x % b) e ∙ mod-mul-add (k / b + 1) b (next + k % b - b) (omega arith) in
      let d : (next + k) / b ≡ k / b + 1 =
      ap (λ x. x / b) e ∙ div-mul-add (k / b + 1) b (next + k % b - b) (omega arith) in
      record {
        branch = branch_round b next (k % b) h ∙ sym m;
        place = ap (place_of b next) m ∙ place_before b next (next + k % b - b) (omega arith) ∙ omega arith;
        turn = omega (arith, d, ap (later next) m, later_before next (next + k % b - b) (omega arith));
      }
]

-- ---- how many bytes come to a place

pub count_early : (b len p : ℕ) → p < len % b → count_at b len p ≡ len / b + 1
count_early b len p l = ap (λ n. len / b + n) (cond-true (nat_lt p (len % b)) 1 0 (lt-ltb p (len % b) l))

pub count_late : (b len p : ℕ) → len % b ≤ p → count_at b len p ≡ len / b
count_late b len p l = ap (λ n. len / b + n) (cond-false (nat_lt p (len % b)) 1 0 (le-ltb p (len % b) l))
    ∙ omega arith

pub count_few : (q r p : ℕ) → count_of q r p ≤ q + 1
count_few q r p = grind (arith, cases_lt, cond-true, lt-ltb, cond-false, le-ltb)

-- a row of one byte more has it at the places before its end
fewer : (b q r n s : ℕ) → q * b + r < n * b + s → s ≤ b → q ≤ n
fewer b q r n s h l = grind (arith, cases_lt, mul-le-mul_right, add-mul)

fewer_still : (b q r n s : ℕ) → q * b + r < n * b + s → s ≤ r → q < n
fewer_still b q r n s h l = grind (arith, cases_lt, mul-le-mul_right)

-- a byte's row is one of its place's
pub row_counts : (b len k : ℕ) → 0 < b → k < len → k / b < count_at b len (k % b)
row_counts b len k p l = grind (arith, cases_lt, fewer, mod_below, count_early, fewer_still, count_late, div-add-mod')

-- and no more rows have a byte at a place than hold all bytes
pub early_fit : (b len p n : ℕ) → p < len % b → len ≤ n * b → len / b + 1 ≤ n
early_fit b len p n l h = grind (arith, fewer_still, div-add-mod')

pub late_fit : (b len n : ℕ) → 0 < b → len ≤ n * b → len / b ≤ n
late_fit b len n o h = fewer b (len / b) (len % b) n 1 (omega (arith, div-add-mod' len b)) o

-- and a row of a place has a byte there
pub row_within : (b len p k : ℕ) → 0 < b → p < b → k < count_at b len p → p + k * b < len
row_within b len p k o q l = elim (cases_lt p (len % b)) [
  | inl h ↦
      let g : k * b ≤ len / b * b = mul-le-mul_right b (omega (arith, count_early b len p h)) in
      omega (arith, div-add-mod' len b)
  | inr h ↦
      let g : (k + 1) * b ≤ len / b * b = mul-le-mul_right b (omega (arith, count_late b len p h)) in
      omega (arith, div-add-mod' len b, add-mul k 1 b)
]

-- the place and the row of byte p + k * b
pub its_place : (b p k : ℕ) → p < b → (p + k * b) % b ≡ p
its_place b p k l = ap (λ x. x % b) (omega arith) ∙ mod-mul-add k b p l

pub from_row : (b i : ℕ) → i % b + i / b * b ≡ i
from_row b i = omega (arith, div-add-mod' i b)

-- ---- how far a branch has come after so many bytes

ordered : (b next i j : ℕ) → next < b → i < b → j < b → i < j
    → ((place_of b next i < place_of b next j) × (later next i ≡ later next j))
    ⊎ ((place_of b next j ≤ place_of b next i) × (later next i ≡ 1) × (later next j ≡ 0))
ordered b next i j l m n h =
    grind (arith, cases_lt, place_of, later, place_before, later_before, place_from, later_from)

-- a branch before the next one has had its byte of this turn
pub come_early : (b next len i : ℕ) → next < b → i < (next + len) % b
    → count_at b len (place_of b next i) + later next i ≡ (next + len) / b + 1
come_early b next len i l h =
    let t : IsTurn b next len = turns b next len l in
    elim (ordered b next i ((next + len) % b) l (omega arith) (mod_below (next + len) b (omega arith)) h) [
      | inl k ↦ omega (arith, k.1, t.turn, count_early b len (place_of b next i) (omega (arith, k.0, t.place)))
      | inr k ↦ omega (arith, k.1, k.2, t.turn, count_late b len (place_of b next i) (omega (arith, k.0, t.place)))
    ]

not_before : (b next i j : ℕ) → next < b → i < b → j < b → j ≤ i
    → ((place_of b next j ≤ place_of b next i) × (later next i ≡ later next j))
    ⊎ ((place_of b next i < place_of b next j) × (later next i ≡ 0) × (later next j ≡ 1))
not_before b next i j l m n h =
    grind (arith, cases_lt, place_of, later, place_before, later_before, place_from, later_from)

-- and the next one and those behind it have not
pub come_late : (b next len i : ℕ) → next < b → i < b → (next + len) % b ≤ i
    → count_at b len (place_of b next i) + later next i ≡ (next + len) / b
come_late b next len i l p h =
    let t : IsTurn b next len = turns b next len l in
    elim (not_before b next i ((next + len) % b) l p (mod_below (next + len) b (omega arith)) h) [
      | inl k ↦ omega (arith, k.1, t.turn, count_late b len (place_of b next i) (omega (arith, k.0, t.place)))
      | inr k ↦ omega (arith, k.1, k.2, t.turn, count_early b len (place_of b next i) (omega (arith, k.0, t.place)))
    ]
