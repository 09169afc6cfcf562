-- What is made of each symbol from a place on.
use Rattle.std.proofs.Common.{◌≡◌, ℕ, ℤ, pos, ◌+◌, ◌-◌, ◌<◌, List, map, drop, length, get_or, set, sym, ap, ◌∙◌}
use Rattle.std.proofs.Common.{arith, below_more, subst}
use Rattle.std.proofs.lemmas.List.{ext_get_or, get_or-drop, get_or-map, get_or-set_other, get_or-set_same}
use Rattle.std.proofs.lemmas.List.{length-drop, length-map}

pub each_from : {X : Type 0} (f : ℤ → X) (d : X) (a n : ℕ) (segment : List ℤ) (out : List X) → length segment ≡ a + n
    → length out ≡ n → ((k : ℕ) → k < n → get_or out k d ≡ f (get_or segment (a + k) (pos 0)))
    → out ≡ map f (drop a segment)
each_from f d a n segment out h l g =
    let rest : length (drop a segment) ≡ n = length-drop a segment ∙ ap (λ x. x - a) h ∙ left a n in
    ext_get_or d out (map f (drop a segment)) (l ∙ sym (length-map (drop a segment) f ∙ rest))
    (λ k m. g k (omega (arith, l, m)) ∙ sym (get_or-map f (drop a segment) k (pos 0) d (omega (arith, rest, l, m))
    ∙ ap f (get_or-drop a segment k (pos 0))))
  where
    left : (a n : ℕ) → a + n - a ≡ n
    left a n = omega arith

-- one more is written
pub written_more : {X : Type 0} (P : ℕ → X → Type 0) (d x : X) (out : List X) (q : ℕ) → q < length out
    → ((k : ℕ) → k < q → P k (get_or out k d)) → P q x → (k : ℕ) → k < q + 1 → P k (get_or (set out q x) k d)
written_more P d x out q room before now = below_more (λ k. P k (get_or (set out q x) k d)) q
    (λ k l. subst (P k) (sym (get_or-set_other out q k x d (omega arith))) (before k l))
    (subst (P q) (sym (get_or-set_same out q x d room)) now)
