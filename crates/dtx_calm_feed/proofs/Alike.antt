-- Two lists of a feed's own segments of a group, which are as long as each other, are the same.
use Rattle.std.proofs.Common.{◌≡◌, ◌⊎◌, inl, inr, ℕ, ℤ, ◌<◌, List, [], ◌∷◌, length, refl, sym, ap, ◌∙◌, arith}
use Rattle.dtx_coder.specs.Stream.{four_segments}
use Rattle.dtx_exciter.specs.Emission.{segments_since}
use Rattle.dtx_exciter.specs.Order.{Order}
use Rattle.dtx_calm_feed.specs.Own.{own_by, own_data, own_segments, data_of}
use Rattle.dtx_calm_feed.proofs.Given.{GivesOwn}

none_of : (xs : List (List ℤ)) → length xs ≡ 0 → xs ≡ []
none_of [] e = refl
none_of (x ∷ xs) e = absurd (omega (arith, e))

pub same_segments : (l : List (List ℕ)) (n : ℕ) (x y : List (List ℤ)) → GivesOwn l n x → GivesOwn l n y
    → length x ≡ length y → x ≡ y
unfolding own_segments
same_segments l n x y (inl e) g h =
    let z : length x ≡ 0 = ap (λ (ss : List (List ℤ)). length ss) e in
    e ∙ sym (none_of y (sym h ∙ z))
same_segments l n x y (inr (b, e)) (inl f) h =
    let z : length y ≡ 0 = ap (λ (ss : List (List ℤ)). length ss) f in
    none_of x (h ∙ z) ∙ sym f
same_segments l n x y (inr (b, e)) (inr (c, f)) h = grind arith

-- ---- the data segments

-- none, or four
abbrev AreNoneOrFour : List (List ℤ) → Type 0
AreNoneOrFour ss = (ss ≡ []) ⊎ (length ss ≡ 4)

four_by : (l : List (List ℕ)) (i : ℕ) (os : List Order) → AreNoneOrFour (own_by l i os)
unfolding segments_since four_segments
four_by l i [] = inl refl
four_by l i (order ∷ []) = inr refl
four_by l i (order ∷ next ∷ older) = four_by l i (next ∷ older)

pub same_data : (l : List (List ℕ)) (n : ℕ) (x y : List (List ℤ)) → GivesOwn l n x → GivesOwn l n y
    → 0 < length x → 0 < length y → data_of x ≡ data_of y
unfolding own_segments own_data
same_data l n x y f g h k = grind (arith, four_by)
