-- The generator times x - root.
use Rattle.std.proofs.Common.{◌≡◌, ℕ, zero, suc, ◌+◌, ◌-◌, ◌<◌, List, [], ◌∷◌, ◌++◌, length, get_or, take, drop}
use Rattle.std.proofs.Common.{replicate, bit_xor, refl, sym, ap, ap₂, ◌∙◌, arith, add-one}
use Rattle.std.proofs.lemmas.List.{ext_get_or, take_at, drop_at, append_assoc, length_push}
use Rattle.dtx_galois.specs.Field.{mul, pow, sums, scaled}
use Rattle.dtx_galois.proofs.FieldLemmas.{mul_comm, mul_one, pow_small}
use Rattle.dtx_laws.specs.Register.{generator}
use Rattle.dtx_laws.proofs.EncodingLemmas.{length_generator}
use Rattle.dtx_rs.specs.Generator.{multiplied}

length_multiplied : (r c : ℕ) (xs : List ℕ) → length (multiplied r c xs) ≡ length xs
length_multiplied r c [] = refl
length_multiplied r c (x ∷ xs) = ap suc (length_multiplied r x xs)

multiplied_at : (r c : ℕ) (xs : List ℕ) (k : ℕ) → k < length xs
    → get_or (multiplied r c xs) k 0 ≡ bit_xor (get_or xs k 0) (mul r (get_or (c ∷ xs) k 0))
multiplied_at r c [] k l = absurd (omega arith)
multiplied_at r c (x ∷ xs) zero l = refl
multiplied_at r c (x ∷ xs) (suc k) l = multiplied_at r x xs k (omega arith)

-- a list that is known at each place
pub multiplied_by_places : (new old : List ℕ) (r : ℕ) → length new ≡ length old
    → ((k : ℕ) → k < length old → get_or new k 0 ≡ bit_xor (get_or old k 0) (mul r (get_or (1 ∷ old) k 0)))
    → new ≡ multiplied r 1 old
multiplied_by_places new old r l h = ext_get_or 0 new (multiplied r 1 old) (l ∙ sym (length_multiplied r 1 old))
    (λ k i. grind (arith, multiplied_at))

multiplied_is : (r c : ℕ) (xs : List ℕ) → multiplied r c (xs ++ 0 ∷ []) ≡ sums (xs ++ 0 ∷ []) (mul r c ∷ scaled r xs)
multiplied_is r c [] = refl
multiplied_is r c (x ∷ xs) = ap (◌∷◌ (bit_xor x (mul r c))) (multiplied_is r x xs)

-- one turn of the loop over the degree, in a place for n coefficients
pub generator_more : (m n : ℕ) (old part : List ℕ) (root : ℕ) → m < n → old ≡ generator m ++ replicate (n - m) 0
    → root ≡ pow 2 m → part ≡ multiplied root 1 (take (m + 1) old)
    → part ++ drop (m + 1) old ≡ generator (m + 1) ++ replicate (n - (m + 1)) 0
generator_more m n old part root l e p h =
    let rest : List ℕ = replicate (n - (m + 1)) 0 in
    let one_less : n - m ≡ suc (n - (m + 1)) = omega arith in
    let split : old ≡ (generator m ++ 0 ∷ []) ++ replicate (n - (m + 1)) 0 = grind (arith, append_assoc) in
    let long : length (generator m ++ 0 ∷ []) ≡ m + 1 =
    length_push (generator m) 0 ∙ ap (λ k. k + 1) (length_generator m) in
    ap₂ ◌++◌ (grind (arith, take_at, multiplied_is, mul_comm, mul_one, pow_small, add-one))
    (ap (drop (m + 1)) split ∙ drop_at (generator m ++ 0 ∷ []) (replicate (n - (m + 1)) 0) (m + 1) long)
