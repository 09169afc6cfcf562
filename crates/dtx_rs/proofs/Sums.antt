-- Sums of words place by place, and the register's step as a loop takes it.
use Rattle.std.proofs.Common.{◌≡◌, ℕ, zero, suc, ◌-◌, ◌<◌, List, [], ◌∷◌, ◌++◌, length, get_or, set, take, drop}
use Rattle.std.proofs.Common.{bit_xor, refl, sym, ap, ◌∙◌, arith}
use Rattle.std.proofs.lemmas.List.{ext_get_or, get_or-map, length-map, set_at}
use Rattle.std.specs.Simd.Lanes.{zip2}
use Rattle.dtx_galois.specs.Field.{mul, sums, scaled}
use Rattle.dtx_galois.proofs.WordsLemmas.{length_sums}
use Rattle.dtx_laws.specs.Register.{fed}

pub sums_at : (xs ys : List ℕ) (k : ℕ) → k < length xs → k < length ys
    → get_or (sums xs ys) k 0 ≡ bit_xor (get_or xs k 0) (get_or ys k 0)
sums_at [] ys k l m = absurd (omega arith)
sums_at (x ∷ xs) [] k l m = absurd (omega arith)
sums_at (x ∷ xs) (y ∷ ys) zero l m = refl
sums_at (x ∷ xs) (y ∷ ys) (suc k) l m = sums_at xs ys k (omega arith) (omega arith)

-- a word that is known at each place
pub sums_by_places : (new xs ys : List ℕ) → length new ≡ length xs → length xs ≡ length ys
    → ((k : ℕ) → k < length xs → get_or new k 0 ≡ bit_xor (get_or xs k 0) (get_or ys k 0)) → new ≡ sums xs ys
sums_by_places new xs ys l m h = ext_get_or 0 new (sums xs ys) (l ∙ sym (length_sums xs ys)) (λ k i. h k (omega arith)
    ∙ sym (sums_at xs ys k (omega arith) (omega arith)))

pub sums_scaled : (new old divisor : List ℕ) (f : ℕ) → length new ≡ length old → length old ≡ length divisor
    → ((k : ℕ) → k < length divisor → get_or new k 0 ≡ bit_xor (get_or old k 0) (mul f (get_or divisor k 0)))
    → new ≡ sums old (scaled f divisor)
sums_scaled new old divisor f l m h = grind (arith, sums_by_places, length-map, get_or-map)

-- the register turned round, with a 0 at its end
turned : (r : ℕ) (rs : List ℕ) (n : ℕ) → length rs ≡ n → set (rs ++ r ∷ []) n 0 ≡ rs ++ 0 ∷ []
turned r rs n e = set_at rs r [] 0 n e

pub fed_is : (divisor old turned_old new : List ℕ) (b f : ℕ) → 0 < length old
    → turned_old ≡ set (drop 1 old ++ take 1 old) (length old - 1) 0 → f ≡ bit_xor b (get_or old 0 0)
    → new ≡ sums turned_old (scaled f divisor) → new ≡ fed divisor old b
fed_is divisor [] t new b f l e g h = absurd (omega arith)
fed_is divisor (r ∷ rs) t new b f l e g h = grind (arith, turned)

-- lane by lane
pub zip_sums : (xs ys : List ℕ) → length xs ≡ length ys → zip2 bit_xor xs ys ≡ sums xs ys
zip_sums [] ys l = refl
zip_sums (x ∷ xs) [] l = absurd (omega arith)
zip_sums (x ∷ xs) (y ∷ ys) l = ap (λ zs. bit_xor x y ∷ zs) (zip_sums xs ys (omega arith))
