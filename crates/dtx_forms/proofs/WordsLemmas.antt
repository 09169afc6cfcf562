-- What holds of the first word and of those that were read behind it holds of the words.
use Rattle.std.proofs.Common.{◌≡◌, ℕ, ◌<◌, ◌≤◌, List, [], ◌∷◌, length, get_or, subst, arith}

-- three words, of which two were read
pub by_three : (P : List (List ℕ) → Type 0) (words : List (List ℕ)) (h j h' j' : List ℕ) → 3 ≤ length words
    → length words < 4 → h' ≡ get_or words 1 h → j' ≡ get_or words 2 j → P (get_or words 0 [] ∷ h' ∷ j' ∷ []) → P words
by_three P [] h j h' j' l u p q is = absurd (omega (arith, l))
by_three P (a ∷ []) h j h' j' l u p q is = absurd (omega (arith, l))
by_three P (a ∷ (b ∷ [])) h j h' j' l u p q is = absurd (omega (arith, l))
by_three P (a ∷ (b ∷ (c ∷ []))) h j h' j' l u p q is =
    subst (λ x. P (a ∷ x ∷ c ∷ [])) p (subst (λ x. P (a ∷ h' ∷ x ∷ [])) q is)
by_three P (a ∷ (b ∷ (c ∷ (d ∷ more)))) h j h' j' l u p q is = absurd (omega (arith, u))

-- four words, of which three were read
pub by_four : (P : List (List ℕ) → Type 0) (words : List (List ℕ)) (h j k h' j' k' : List ℕ) → 4 ≤ length words
    → length words < 5 → h' ≡ get_or words 1 h → j' ≡ get_or words 2 j → k' ≡ get_or words 3 k
    → P (get_or words 0 [] ∷ h' ∷ j' ∷ k' ∷ []) → P words
by_four P [] h j k h' j' k' l u p q r is = absurd (omega (arith, l))
by_four P (a ∷ []) h j k h' j' k' l u p q r is = absurd (omega (arith, l))
by_four P (a ∷ (b ∷ words)) h j k h' j' k' l u p q r is =
    by_three (λ w. P (a ∷ w)) (b ∷ words) j k j' k' (omega (arith, l)) (omega (arith, u)) q r
    (subst (λ x. P (a ∷ x ∷ j' ∷ k' ∷ [])) p is)

-- five words, of which four were read
pub by_five : (P : List (List ℕ) → Type 0) (words : List (List ℕ)) (h j k m h' j' k' m' : List ℕ)
    → 5 ≤ length words → length words < 6 → h' ≡ get_or words 1 h → j' ≡ get_or words 2 j → k' ≡ get_or words 3 k
    → m' ≡ get_or words 4 m → P (get_or words 0 [] ∷ h' ∷ j' ∷ k' ∷ m' ∷ []) → P words
by_five P [] h j k m h' j' k' m' l u p q r s is = absurd (omega (arith, l))
by_five P (a ∷ []) h j k m h' j' k' m' l u p q r s is = absurd (omega (arith, l))
by_five P (a ∷ (b ∷ words)) h j k m h' j' k' m' l u p q r s is =
    by_four (λ w. P (a ∷ w)) (b ∷ words) j k m j' k' m' (omega (arith, l)) (omega (arith, u)) q r s
    (subst (λ x. P (a ∷ x ∷ j' ∷ k' ∷ m' ∷ [])) p is)

-- six words, of which five were read
pub by_six : (P : List (List ℕ) → Type 0) (words : List (List ℕ)) (h j k m n h' j' k' m' n' : List ℕ)
    → 6 ≤ length words → length words < 7 → h' ≡ get_or words 1 h → j' ≡ get_or words 2 j → k' ≡ get_or words 3 k
    → m' ≡ get_or words 4 m → n' ≡ get_or words 5 n → P (get_or words 0 [] ∷ h' ∷ j' ∷ k' ∷ m' ∷ n' ∷ []) → P words
by_six P [] h j k m n h' j' k' m' n' l u p q r s t is = absurd (omega (arith, l))
by_six P (a ∷ []) h j k m n h' j' k' m' n' l u p q r s t is = absurd (omega (arith, l))
by_six P (a ∷ (b ∷ [])) h j k m n h' j' k' m' n' l u p q r s t is = absurd (omega (arith, l))
by_six P (a ∷ (b ∷ (c ∷ words))) h j k m n h' j' k' m' n' l u p q r s t is =
    by_four (λ w. P (a ∷ b ∷ w)) (c ∷ words) k m n k' m' n' (omega (arith, l)) (omega (arith, u)) r s t
    (subst (λ x. P (a ∷ b ∷ x ∷ k' ∷ m' ∷ n' ∷ [])) q (subst (λ x. P (a ∷ x ∷ j' ∷ k' ∷ m' ∷ n' ∷ [])) p is))
