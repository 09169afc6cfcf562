-- The sums, one pair further.
use Rattle.std.proofs.Common.{◌≡◌, ℕ, zero, suc, ◌+◌, ◌-◌, ◌*◌, ◌%◌, ◌<◌, ◌==◌, cond, List, map, length, get_or, sum}
use Rattle.std.proofs.Common.{refl, sym, ap, ap₂, ◌∙◌, arith}
use Rattle.std.specs.List.{range_with_len, sum_by}
use Rattle.std.proofs.lemmas.List.FromFn.{sum_by-map-range_with_len_more}
use Rattle.std.proofs.lemmas.List.Sums.{sum_by_more}
use Rattle.std.proofs.lemmas.Bool.{cond-true, cond-false, eq-eqb, ne_eqb}
use Rattle.dtx_trellis.specs.Trellis.{State, z2, z0, alternate, level, state_after, level_of, next_of, AreBits}

-- one more a
pub z2_next : (q : State) (a : List ℕ) (t : ℕ) → t + 1 < length a → z2 q a (t + 1) ≡ (z2 q a t + get_or a (t + 1) 0) % 2
unfolding z2
z2_next q a t l = grind (arith, sum_by_more)

pub z2_first : (q : State) (a : List ℕ) → 0 < length a → z2 q a 0 ≡ (q.q2 + get_or a 0 0) % 2
unfolding z2
z2_first q a l = grind (arith, sum_by_more)

-- two more places of the alternating sum
term : List ℕ → ℕ → ℕ → ℕ
term b t j = cond ((t + j) % 2 == 1) (get_or b j 0) 0

term_even : (b : List ℕ) (t j : ℕ) → term b (t + 2) j ≡ term b t j
unfolding term
term_even b t j = ap (λ (x : ℕ). cond (x == 1) (get_or b j 0) 0) (omega arith)

same_terms : (b : List ℕ) (t n : ℕ) → map (term b (t + 2)) (range_with_len 0 n) ≡ map (term b t) (range_with_len 0 n)
same_terms b t n = grind (arith, term, term_even)

term_before : (b : List ℕ) (t : ℕ) → term b (t + 2) (t + 1) ≡ get_or b (t + 1) 0
unfolding term
term_before b t = grind (arith, cond-true, eq-eqb)

term_at : (b : List ℕ) (t : ℕ) → term b (t + 2) t ≡ 0
unfolding term
term_at b t = cond-false ((t + 2 + t) % 2 == 1) (get_or b t 0) 0 (ne_eqb ((t + 2 + t) % 2) 1 (omega arith))

pub alternate_next : (b : List ℕ) (t : ℕ) → alternate b (t + 2) ≡ get_or b (t + 1) 0 + alternate b t
unfolding alternate term
alternate_next b t =
    let f : sum_by (λ x. x) (map (term b (t + 2)) (range_with_len 0 (t + 1)))
    ≡ sum_by (λ x. x) (map (term b (t + 2)) (range_with_len 0 t)) + term b (t + 2) t =
    sum_by-map-range_with_len_more (λ x. x) (term b (t + 2)) 0 t t (omega arith) in
    ap (λ n. sum (map (term b (t + 2)) (range_with_len 0 n))) (two t)
    ∙ (sum_by-map-range_with_len_more (λ x. x) (term b (t + 2)) 0 (t + 1) (t + 1) (omega arith))
    ∙ ap₂ ◌+◌ (f ∙ ap₂ ◌+◌ (ap sum (same_terms b t t)) (term_at b t)) (term_before b t)
    ∙ swapped (sum (map (term b t) (range_with_len 0 t))) (get_or b (t + 1) 0)
  where
    two : (t : ℕ) → t + 2 ≡ t + 1 + 1
    two t = omega arith

    swapped : (x y : ℕ) → x + 0 + y ≡ y + x
    swapped x y = omega arith

pub z0_next : (q : State) (b : List ℕ) (t : ℕ) → z0 q b (t + 2) ≡ (get_or b (t + 1) 0 + z0 q b t) % 2
unfolding z0
z0_next q b t = grind (arith, alternate_next)

z0_first : (q : State) (b : List ℕ) → AreBits q → z0 q b 0 ≡ q.q1
unfolding z0 alternate
z0_first q b h = let l : q.q1 < 2 = h.q1 in omega arith

z0_second : (q : State) (b : List ℕ) → z0 q b 1 ≡ (get_or b 0 0 + q.q0) % 2
unfolding z0 alternate
z0_second q b = omega arith

abbrev make : ℕ → ℕ → ℕ → State
make x y z = record { q2 = x; q1 = y; q0 = z }

make_eq : {a b c d e f : ℕ} → a ≡ d → b ≡ e → c ≡ f → make a b c ≡ make d e f
make_eq {a} {b} {c} {d} {e} {f} p q r = ap (λ x. make x b c) p ∙ ap (λ x. make d x c) q ∙ ap (λ x. make d e x) r

after_next : (q : State) (a b : List ℕ) (u : ℕ)
    → state_after q a b (u + 1) ≡ make (z2 q a u) (z0 q b (u + 1)) (z0 q b u)
unfolding state_after
after_next q a b u = grind (arith, cond-false, ne_eqb)

pub after_zero : (q : State) (a b : List ℕ) → state_after q a b 0 ≡ q
unfolding state_after
after_zero q a b = refl

swapped : (x y : ℕ) → (x + y) % 2 ≡ (y + x) % 2
swapped x y = omega arith

-- stepping gives the sums
pub state_step : (q : State) (a b : List ℕ) (t : ℕ) → AreBits q → t < length a
    → state_after q a b (t + 1) ≡ next_of (state_after q a b t) (get_or a t 0) (get_or b t 0)
state_step q a b zero h l = after_next q a b 0
    ∙ make_eq (z2_first q a l ∙ swapped q.q2 (get_or a 0 0)) (z0_second q b) (z0_first q b h)
    ∙ ap (λ s. next_of s (get_or a 0 0) (get_or b 0 0)) (sym (after_zero q a b))
state_step q a b (suc u) h l =
    let e : suc u ≡ u + 1 = omega arith in
    rw e (after_next q a b (u + 1)
    ∙ make_eq (z2_next q a u (omega arith) ∙ swapped (z2 q a u) (get_or a (u + 1) 0)) (ap (z0 q b) (omega arith)
    ∙ z0_next q b u) refl ∙ ap (λ s. next_of s (get_or a (u + 1) 0) (get_or b (u + 1) 0)) (sym (after_next q a b u)))

pub level_step : (q : State) (a b : List ℕ) (t : ℕ) → AreBits q → t < length a
    → level q a b t ≡ level_of (state_after q a b t) (get_or a t 0) (get_or b t 0)
unfolding level
level_step q a b zero h l = grind (arith, z2_first, swapped, z0_first, after_zero)
level_step q a b (suc u) h l =
    let e : suc u ≡ u + 1 = omega arith in
    rw e (ap (λ x. 4 * x + 2 * get_or b (u + 1) 0 + z0 q b (u + 1)) (z2_next q a u (omega arith)
    ∙ swapped (z2 q a u) (get_or a (u + 1) 0))
    ∙ ap (λ s. level_of s (get_or a (u + 1) 0) (get_or b (u + 1) 0)) (sym (after_next q a b u)))
