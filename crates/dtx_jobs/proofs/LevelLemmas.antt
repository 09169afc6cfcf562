-- Lemmas of what a piece of a capture brings, levelled.
use Rattle.std.proofs.Common.{◌≡◌, ℕ, ℤ, zero, suc, pos, ◌+◌, ◌<◌, List, [], ◌∷◌, ◌++◌, length, map, replicate, refl}
use Rattle.std.proofs.Common.{ap, arith, append_assoc, length-append}
use Rattle.std.proofs.lemmas.List.{length-replicate, map-append}
use Rattle.dtx_files.specs.Symbols.{byte_of_symbol}

none_of : (bytes : List ℕ) → length bytes ≡ 0 → bytes ≡ []
none_of [] none = refl
none_of (byte ∷ bytes) none = absurd (omega (arith, none))

-- where what came before and what was brought are nothing, nothing was brought
pub nothing_brought : (front : List ℕ) (zeros : ℕ) (bytes : List ℕ) → [] ≡ front ++ (replicate zeros 0 ++ bytes)
    → (zeros ≡ 0) × (bytes ≡ [])
nothing_brought front count bytes is =
    let all = ap length is in
    let one = length-append front (replicate count 0 ++ bytes) in
    let two = length-append (replicate count 0) bytes in
    let three = length-replicate {A = ℕ} count 0 in
    (omega (arith, all, one, two, three), none_of bytes (omega (arith, all, one, two, three)))

zero_bytes : (n : ℕ) → map byte_of_symbol (replicate n (pos 0)) ≡ replicate n 0
zero_bytes zero = refl
zero_bytes (suc n) = ap (λ (b : List ℕ). 0 ∷ b) (zero_bytes n)

-- zeros and symbols behind what was brought: where there are such zeros, nothing was brought
brought_more : (count more : ℕ) (bytes : List ℕ) (given : List ℤ) → (0 < more → (count ≡ 0) × (bytes ≡ []))
    → replicate (count + more) 0 ++ (bytes ++ map byte_of_symbol given)
    ≡ (replicate count 0 ++ bytes) ++ map byte_of_symbol (replicate more (pos 0) ++ given)
brought_more count zero bytes given first =
    let same : count + 0 ≡ count = omega arith in
    cc (same, append_assoc (replicate count 0) bytes (map byte_of_symbol given))
brought_more count (suc more) bytes given first =
    let none = first (omega arith) in
    let same : 0 + suc more ≡ suc more = omega arith in
    cc (none.0, none.1, same, zero_bytes (suc more), map-append byte_of_symbol (replicate (suc more) (pos 0)) given)

-- so it is of what a call of the leveller brought
pub brought_with : (count more : ℕ) (bytes : List ℕ) (given : List ℤ) (brought : List ℤ) (called : ℕ) (now : List ℕ)
    → (0 < more → (count ≡ 0) × (bytes ≡ [])) → called ≡ more → brought ≡ given
    → now ≡ bytes ++ map byte_of_symbol brought → replicate (count + called) 0 ++ now
    ≡ (replicate count 0 ++ bytes) ++ map byte_of_symbol (replicate more (pos 0) ++ given)
brought_with count more bytes given brought called now first called_is brought_is now_is = grind (arith, brought_more)
