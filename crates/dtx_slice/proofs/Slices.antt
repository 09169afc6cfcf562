-- Slicing, by a test of all bytes.
use Rattle.std.proofs.Common.{◌≡◌, ℕ, ◌+◌, ◌-◌, ◌/◌, ◌%◌, ◌<◌, ◌≤◌, ◌==◌, true, ℤ, pos, negsuc, nat_abs, ◌+ℤ◌, List}
use Rattle.std.proofs.Common.{◌++◌, map, take, drop, length, get_or, to_z, of_z, w8, refl, sym, ap, ◌∙◌, subst, arith}
use mir.Val.{SFits}
use Rattle.std.specs.Int.{int_max, saturate_signed}
use Rattle.std.proofs.lemmas.Int.{to_z-of_z}
use Rattle.std.proofs.lemmas.Bool.{cases_lt, eqb-true, leb-true}
use Rattle.std.proofs.lemmas.List.{ext_get_or, get_or-map, length-map, length-drop, length-append, length-take-le}
use Rattle.std.proofs.lemmas.List.{get_or-take, get_or-drop, get_or_append_left, get_or-append_right}
use Rattle.dtx_lists.proofs.Below.{holds_below, at_below}
use Rattle.dtx_slice.specs.Slicing.{sliced}

abbrev raised : ℤ → ℤ
raised v = int_max (to_z w8 (of_z w8 (saturate_signed w8 (v +ℤ pos 120)))) (pos 112)

abbrev halved : ℤ → ℕ
halved r = nat_abs (to_z w8 (of_z w8 r)) / 2 % 8

level_test : holds_below (λ n. halved (raised (to_z w8 n)) == sliced (to_z w8 n)) 256 ≡ true
unfolding sliced
level_test = refl

of_z_below : (v : ℤ) → SFits w8 v → of_z w8 v < 256
of_z_below (pos n) f = let h = f.sfits in omega arith
of_z_below (negsuc n) f = let h = f.sfits in omega arith

pub level_is : (v s r : ℤ) → SFits w8 v → s ≡ saturate_signed w8 (to_z w8 (of_z w8 v) +ℤ pos 120)
    → r ≡ int_max (to_z w8 (of_z w8 s)) (pos 112) → halved r ≡ sliced v
level_is v s r f e g = ap halved (g ∙ ap (λ s. int_max (to_z w8 (of_z w8 s)) (pos 112)) e)
    ∙ eqb-true (halved (raised (to_z w8 (of_z w8 v)))) (sliced (to_z w8 (of_z w8 v)))
    (at_below (λ n. halved (raised (to_z w8 n)) == sliced (to_z w8 n)) 256 (of_z w8 v) level_test (of_z_below v f))
    ∙ ap sliced (to_z-of_z w8 v f)

-- every level is below 8
pub sliced_small : (v : ℤ) → sliced v < 8
unfolding sliced
sliced_small (pos n) = grind (arith, leb-true)
sliced_small (negsuc n) = grind arith

-- the levels of the symbols from place a on
pub sliced_from : (a n : ℕ) (segment : List ℤ) (levels : List ℕ) → length segment ≡ a + n → length levels ≡ n
    → ((k : ℕ) → k < n → get_or levels k 0 ≡ sliced (get_or segment (a + k) (pos 0)))
    → levels ≡ map sliced (drop a segment)
sliced_from a n segment levels h l f =
    let rest : length (drop a segment) ≡ n = length-drop a segment ∙ ap (λ x. x - a) h ∙ omega arith in
    ext_get_or 0 levels (map sliced (drop a segment)) (l ∙ sym (length-map (drop a segment) sliced ∙ rest))
    (λ k m. f k (omega arith) ∙ sym (grind (arith, get_or-map, get_or-drop)))

-- all levels of a list are below 8
abbrev pub AreSmall : List ℕ → Type 0
AreSmall xs = (k : ℕ) → k < length xs → get_or xs k 0 < 8

small_append : (xs ys : List ℕ) → AreSmall xs → AreSmall ys → AreSmall (xs ++ ys)
small_append xs ys f g k l = grind (arith, cases_lt, get_or_append_left, get_or-append_right, length-append)

pub small_take : (a : ℕ) (xs : List ℕ) → a ≤ length xs → AreSmall xs → AreSmall (take a xs)
small_take a xs m f k l = grind (arith, length-take-le, get_or-take)

pub small_drop : (a : ℕ) (xs : List ℕ) → AreSmall xs → AreSmall (drop a xs)
small_drop a xs f k l = subst (λ x. x < 8) (sym (get_or-drop a xs k 0)) (f (a + k) (omega (arith, length-drop a xs)))

pub sliced_all_small : (a : ℕ) (segment : List ℤ) → AreSmall (map sliced (drop a segment))
sliced_all_small a segment k l = subst (λ x. x < 8) (sym (grind (arith, get_or-map, length-map)))
    (sliced_small (get_or (drop a segment) k (pos 0)))

pub placed_small : (a n : ℕ) (segment : List ℤ) (old mid : List ℕ) → a ≤ length old
    → mid ≡ map sliced (drop 4 segment) → AreSmall old → AreSmall (take a old ++ (mid ++ drop n (drop a old)))
placed_small a n segment old mid m e f = small_append (take a old) (mid ++ drop n (drop a old)) (small_take a old m f)
    (small_append mid (drop n (drop a old)) (subst AreSmall (sym e) (sliced_all_small 4 segment))
    (small_drop n (drop a old) (small_drop a old f)))
