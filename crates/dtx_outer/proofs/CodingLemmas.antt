-- The codewords of the data of packets, as those that make them call them.
use borrow.Rule.Slice.PartMut.{put_mid}
use Rattle.std.proofs.Common.{◌≡◌, ℕ, ◌+◌, ◌≤◌, List, [], ◌∷◌, ◌++◌, length, take, get_or, arith}
use Rattle.std.proofs.lemmas.List.{append_assoc, length-append, length-take-le, take_at}
use Rattle.std.specs.List.{concat, enumerate_from, flat_map}
use Rattle.dtx_outer.specs.Outer.{coded_as, codewords}

-- what is made of each packet by its number, where that is the codeword of its data
pub four_made : (n k : ℕ) (white : List ℕ) (s : ℕ) (one two three four : List ℕ) (packets : List (List ℕ))
    (made : ℕ → List ℕ → List ℕ) → length packets ≡ 4
    → ((p : ℕ) → coded_as n k white p one ≡ made p (get_or packets 0 []))
    → ((p : ℕ) → coded_as n k white p two ≡ made p (get_or packets 1 []))
    → ((p : ℕ) → coded_as n k white p three ≡ made p (get_or packets 2 []))
    → ((p : ℕ) → coded_as n k white p four ≡ made p (get_or packets 3 []))
    → concat (codewords n k white s (one ∷ two ∷ three ∷ four ∷ []))
    ≡ flat_map (λ p. made p.0 p.1) (enumerate_from s packets)
unfolding codewords
four_made n k white s one two three four (a ∷ b ∷ c ∷ d ∷ []) made l e1 e2 e3 e4 = grind arith
four_made n k white s one two three four [] made l e1 e2 e3 e4 = absurd (omega (arith, l))
four_made n k white s one two three four (a ∷ []) made l e1 e2 e3 e4 = absurd (omega (arith, l))
four_made n k white s one two three four (a ∷ b ∷ []) made l e1 e2 e3 e4 = absurd (omega (arith, l))
four_made n k white s one two three four (a ∷ b ∷ c ∷ []) made l e1 e2 e3 e4 = absurd (omega (arith, l))
four_made n k white s one two three four (a ∷ b ∷ c ∷ d ∷ e ∷ ps) made l e1 e2 e3 e4 = absurd (omega (arith, l))

-- words that are written behind those before them
pub written_behind : (a k : ℕ) (words more : List ℕ) → a + k ≤ length words → length more ≡ k
    → take (a + k) (put_mid a k words more) ≡ take a words ++ more
written_behind a k words more within long = grind (arith, append_assoc, take_at, length-append, length-take-le)
