-- The field of 256 elements of the Reed-Solomon encoder (ATSC A/53 Part 2, Reed-Solomon encoder).
-- An element is a byte, a polynomial over the two bits; a sum is `bit_xor`. Of a greater number the low eight bits
-- count.
use Rattle.std.specs.Prelude.{ℕ, ◌%◌, ◌<◌, ◌^◌, List, [], ◌∷◌, length, ◌+◌, ◌*◌, ◌≡◌, ◌≢◌, map}
use Rattle.std.proofs.Common.{zero, suc}
use Rattle.std.specs.Int.RustNames.{bit_xor}
use Rattle.std.specs.List.{AllByRecursion}
use Rattle.dtx_galois.specs.declared.element.TheConstants.{FIELD_POLYNOMIAL}
use Rattle.std.specs.Int.{bit_at}

-- the product of b and the terms of a below X^n
unfoldable pub product : ℕ → ℕ → ℕ → ℕ
product zero a b = 0
product (suc n) a b = bit_xor (bit_at a n * (b * 2 ^ n)) (product n a b)

-- The remainder of p modulo g by long division, for g of degree d and p of degree below d + n. Where p has the term
-- X^(d + n - 1), g times X^(n - 1) is subtracted.
unfoldable pub remainder : ℕ → ℕ → ℕ → ℕ → ℕ
remainder d g zero p = p
remainder d g (suc n) p = remainder d g n (bit_xor p (bit_at p (d + n) * (g * 2 ^ n)))

-- the product of two elements: what the product of their polynomials, of degree below 8 + 7, leaves modulo the field's
-- polynomial x^8 + x^4 + x^3 + x^2 + 1, of degree 8
unfoldable pub mul : ℕ → ℕ → ℕ
mul a b = remainder 8 FIELD_POLYNOMIAL 7 (product 8 a (b % 2 ^ 8))

-- the product of n factors a
unfoldable pub pow : ℕ → ℕ → ℕ
pow a zero = 1
pow a (suc n) = mul a (pow a n)

-- the value at x of the polynomial with these coefficients, the highest first
unfoldable pub value : List ℕ → ℕ → ℕ
value [] x = 0
value (c ∷ cs) x = bit_xor (mul c (pow x (length cs))) (value cs x)

-- each number of a list is a byte
abbrev pub AreBytes : List ℕ → Type 0
AreBytes xs = AllByRecursion (λ b. b < 256) xs

-- the sum of two words place by place, as long as the first
abbrev pub sums : List ℕ → List ℕ → List ℕ
sums [] ys = []
sums (x ∷ xs) [] = x ∷ xs
sums (x ∷ xs) (y ∷ ys) = bit_xor x y ∷ sums xs ys

-- each byte of a word times f
abbrev pub scaled : ℕ → List ℕ → List ℕ
scaled f xs = map (mul f) xs

-- no two of these elements are the same
abbrev pub AreDifferent : List ℕ → Type 0
AreDifferent [] = Unit {0}
AreDifferent (x ∷ xs) = AllByRecursion (λ y. y ≢ x) xs × AreDifferent xs

-- the polynomial with these coefficients vanishes at each of these elements
abbrev pub VanishesAt : List ℕ → List ℕ → Type 0
VanishesAt word xs = AllByRecursion (λ x. value word x ≡ 0) xs

-- each coefficient is 0
abbrev pub IsZero : List ℕ → Type 0
IsZero word = AllByRecursion (λ c. c ≡ 0) word
