-- Mendings: there is at most one, and without marks it is the correction.
use Rattle.std.proofs.Common.{◌≡◌, ℕ, ◌+◌, ◌-◌, ◌*◌, ◌≤◌, ◌==◌, ◌||◌, cond, Bool, true, false, List, [], ◌∷◌, length}
use Rattle.std.proofs.Common.{refl, ap₂, arith}
use Rattle.std.proofs.lemmas.Bool.Decides.{nat_tests}
use Rattle.dtx_laws.specs.Codeword.{IsCodeword, IsCorrection, distance}
use Rattle.dtx_laws.proofs.WordsLemmas.{same_codewords, distance_self}
use Rattle.dtx_erase.specs.Mending.{lost, unmarked_distance, IsMending, IsMended, IsUnmended}

-- ---- at most one

cost : (m : Bool) (x a b : ℕ) → cond (a == b) 0 1 ≤ cond (m || x == a) 0 1 + cond (m || x == b) 0 1 + cond m 1 0
cost m x a b = grind (arith, nat_tests)

through : (marks : List Bool) (word a b : List ℕ) → length marks ≡ length word → length word ≡ length a
    → length a ≡ length b → distance a b ≤ unmarked_distance marks word a + unmarked_distance marks word b + lost marks
through [] [] [] b l m n = omega arith
through [] [] (x ∷ a) b l m n = absurd (omega arith)
through [] (w ∷ word) a b l m n = absurd (omega arith)
through (k ∷ marks) [] a b l m n = absurd (omega arith)
through (k ∷ marks) (w ∷ word) [] b l m n = absurd (omega arith)
through (k ∷ marks) (w ∷ word) (x ∷ a) [] l m n = absurd (omega arith)
through (k ∷ marks) (w ∷ word) (x ∷ a) (y ∷ b) l m n =
    omega (arith, cost k w x y, through marks word a b (omega arith) (omega arith) (omega arith))

pub one_mending : (n k : ℕ) (marks : List Bool) (word a b : List ℕ) → n ≤ 255 → length word ≡ n → length marks ≡ n
    → IsMending n k marks word a → IsMending n k marks word b → a ≡ b
one_mending n k marks word a b l lw lm ma mb = grind (arith, same_codewords, through)

-- the same answer, whoever gives it
pub answers_same : (n k : ℕ) (marks : List Bool) (word a b : List ℕ) (c d : ℕ) → n ≤ 255 → length word ≡ n
    → length marks ≡ n → IsMended n k marks word a c → IsMended n k marks word b d → (a ≡ b) × (c ≡ d)
answers_same n k marks word a b c d l lw lm p q = grind (arith, one_mending)

pub answer_either : (n k : ℕ) (marks : List Bool) (word a b : List ℕ) (c : ℕ) → IsMended n k marks word a c
    → IsUnmended n k marks word b → ⊥
answer_either n k marks word a b c p q = q.none a p.mending

-- ---- without marks

-- a place that isn't marked
unmarked_cost : (m : Bool) (x y : ℕ) → ◌≡◌ {A = ℕ} (cond m 1 0) 0
    → ◌≡◌ {A = ℕ} (cond (m || x == y) 0 1) (cond (x == y) 0 1)
unmarked_cost true x y z = absurd (omega arith)
unmarked_cost false x y z = refl

pub unmarked_is : (marks : List Bool) (word code : List ℕ) → length marks ≡ length word → lost marks ≡ 0
    → unmarked_distance marks word code ≡ distance word code
unmarked_is [] [] code l z = refl
unmarked_is [] (x ∷ xs) code l z = absurd (omega arith)
unmarked_is (m ∷ marks) [] code l z = refl
unmarked_is (m ∷ marks) (x ∷ xs) [] l z = refl
unmarked_is (m ∷ marks) (x ∷ xs) (y ∷ ys) l z =
    ap₂ ◌+◌ (unmarked_cost m x y (omega arith)) (unmarked_is marks xs ys (omega arith) (omega arith))

pub mending_corrects : (n k : ℕ) (marks : List Bool) (word code : List ℕ) → length word ≡ n → length marks ≡ n
    → lost marks ≡ 0 → IsMending n k marks word code → IsCorrection n k word code
mending_corrects n k marks word code lw lm z p = grind (arith, unmarked_is)

pub correction_mends : (n k : ℕ) (marks : List Bool) (word code : List ℕ) → length word ≡ n → length marks ≡ n
    → lost marks ≡ 0 → IsCorrection n k word code → IsMending n k marks word code
correction_mends n k marks word code lw lm z p = grind (arith, unmarked_is)

-- ---- codewords

cost_self : (m : Bool) (x : ℕ) → ◌≡◌ {A = ℕ} (cond (m || x == x) 0 1) 0
cost_self m x = grind (arith, nat_tests)

pub unmarked_self : (marks : List Bool) (word : List ℕ) → unmarked_distance marks word word ≡ 0
unmarked_self [] word = refl
unmarked_self (m ∷ marks) [] = refl
unmarked_self (m ∷ marks) (x ∷ xs) = ap₂ ◌+◌ (cost_self m x) (unmarked_self marks xs)

pub own_mending : (n k : ℕ) (marks : List Bool) (word : List ℕ) → IsCodeword n k word → lost marks ≤ n - k
    → IsMending n k marks word word
own_mending n k marks word c l = record { codeword = c; near = omega (arith, unmarked_self marks word) }

pub own_answer : (n k : ℕ) (marks : List Bool) (word : List ℕ) → IsCodeword n k word → lost marks ≤ n - k
    → IsMended n k marks word word 0
own_answer n k marks word c l = grind (arith, own_mending, distance_self)

-- ---- damage

pub damage_is : (n k : ℕ) (marks : List Bool) (code word : List ℕ) → IsCodeword n k code
    → 2 * unmarked_distance marks word code + lost marks ≤ n - k → IsMending n k marks word code
damage_is n k marks code word c l = record { codeword = c; near = l }

pub damage_only : (n k : ℕ) (marks : List Bool) (code word : List ℕ) → n ≤ 255 → length word ≡ n → length marks ≡ n
    → IsCodeword n k code → 2 * unmarked_distance marks word code + lost marks ≤ n - k
    → (right : List ℕ) → IsMending n k marks word right → right ≡ code
damage_only n k marks code word m lw lm c l right p = grind (arith, one_mending, damage_is)
