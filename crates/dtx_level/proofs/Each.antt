-- What is made of each symbol.
use Rattle.std.proofs.Common.{◌≡◌, ℕ, ℤ, pos, ◌<◌, List, map, length, get_or, sym, ◌∙◌, arith}
use Rattle.std.proofs.lemmas.List.{ext_get_or, get_or-map, length-map}

pub each_is : (f : ℤ → ℤ) (xs out : List ℤ) → length out ≡ length xs
    → ((k : ℕ) → k < length xs → get_or out k (pos 0) ≡ f (get_or xs k (pos 0))) → out ≡ map f xs
each_is f xs out l g = ext_get_or (pos 0) out (map f xs) (l ∙ sym (length-map xs f)) (λ k m. grind (arith, get_or-map))
