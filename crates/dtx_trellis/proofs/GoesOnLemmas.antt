-- The sums over more pairs go on from the state after the first ones.
use Rattle.std.proofs.Common.{◌≡◌, ℕ, zero, suc, ◌+◌, ◌<◌, ◌≤◌, List, ◌++◌, length, get_or, sym, ap, ◌∙◌, subst, arith}
use Rattle.std.proofs.lemmas.List.{get_or_append_left, get_or-append_right, length-append}
use Rattle.dtx_trellis.specs.Trellis.{State, level, state_after, level_of, next_of, AreBits}
use Rattle.dtx_trellis.proofs.StepsLemmas.{state_step, level_step, after_zero}

-- the first t pairs of two sequences are the same
pub record Same (a b c d : List ℕ) (t : ℕ) : Type 0 where
  pub long : t ≤ length a
  pub longer : t ≤ length c
  pub higher : (j : ℕ) → j < t → get_or a j 0 ≡ get_or c j 0
  pub lower : (j : ℕ) → j < t → get_or b j 0 ≡ get_or d j 0

next_eq : {q r : State} {x y u v : ℕ} → q ≡ r → x ≡ y → u ≡ v → next_of q x u ≡ next_of r y v
next_eq {q} {r} {x} {y} {u} {v} e f g = ap (λ s. next_of s x u) e ∙ ap (λ z. next_of r z u) f ∙ ap (next_of r y) g

level_eq : {q r : State} {x y u v : ℕ} → q ≡ r → x ≡ y → u ≡ v → level_of q x u ≡ level_of r y v
level_eq {q} {r} {x} {y} {u} {v} e f g = ap (λ s. level_of s x u) e ∙ ap (λ z. level_of r z u) f ∙ ap (level_of r y) g

pub same_states : (q : State) (a b c d : List ℕ) (t : ℕ) → AreBits q → Same a b c d t
    → state_after q a b t ≡ state_after q c d t
same_states q a b c d zero h s = after_zero q a b ∙ sym (after_zero q c d)
same_states q a b c d (suc t) h s =
    let e : suc t ≡ t + 1 = omega arith in
    rw e (state_step q a b t h (omega (arith, s.long))
    ∙ next_eq (same_states q a b c d t h (grind arith)) (s.higher t (omega arith)) (s.lower t (omega arith))
    ∙ sym (state_step q c d t h (omega (arith, s.longer))))

pub same_levels : (q : State) (a b c d : List ℕ) (t : ℕ) → AreBits q → Same a b c d (suc t)
    → level q a b t ≡ level q c d t
same_levels q a b c d t h s = grind (arith, level_step, level_eq, same_states)

pub next_bits : (q : State) (x u : ℕ) → AreBits q → AreBits (next_of q x u)
next_bits q x u h = record { q2 = omega arith; q1 = omega arith; q0 = h.q1 }

pub after_bits : (q : State) (a b : List ℕ) (t : ℕ) → AreBits q → t ≤ length a → AreBits (state_after q a b t)
after_bits q a b zero h l = subst AreBits (sym (after_zero q a b)) h
after_bits q a b (suc t) h l = subst (λ n. AreBits (state_after q a b n)) (sym (omega arith))
    (subst AreBits (sym (state_step q a b t h (omega (arith, l))))
    (next_bits (state_after q a b t) (get_or a t 0) (get_or b t 0) (after_bits q a b t h (omega (arith, l)))))

right : (a c : List ℕ) (t : ℕ) → get_or (a ++ c) (length a + t) 0 ≡ get_or c t 0
right a c t = grind (arith, get_or-append_right)

pub state_goes_on : (q : State) (a b c d : List ℕ) (t : ℕ) → AreBits q → length a ≡ length b → t ≤ length c
    → state_after q (a ++ c) (b ++ d) (length a + t) ≡ state_after (state_after q a b (length a)) c d t
state_goes_on q a b c d zero h e l = ap (state_after q (a ++ c) (b ++ d)) (omega arith)
    ∙ same_states q (a ++ c) (b ++ d) a b (length a) h (grind (arith, length-append, get_or_append_left))
    ∙ sym (after_zero (state_after q a b (length a)) c d)
state_goes_on q a b c d (suc t) h e l =
    let f : length a + suc t ≡ length a + t + 1 = omega arith in
    let g : suc t ≡ t + 1 = omega arith in
    ap (state_after q (a ++ c) (b ++ d)) f
    ∙ state_step q (a ++ c) (b ++ d) (length a + t) h (omega (arith, length-append a c, l))
    ∙ next_eq (state_goes_on q a b c d t h e (omega (arith, l))) (right a c t) (ap (λ n. get_or (b ++ d) (n + t) 0) e
    ∙ right b d t) ∙ sym (state_step (state_after q a b (length a)) c d t (after_bits q a b (length a) h (omega arith))
    (omega (arith, l))) ∙ ap (state_after (state_after q a b (length a)) c d) (sym g)

pub level_goes_on : (q : State) (a b c d : List ℕ) (t : ℕ) → AreBits q → length a ≡ length b → t < length c
    → level q (a ++ c) (b ++ d) (length a + t) ≡ level (state_after q a b (length a)) c d t
level_goes_on q a b c d t h e l = grind (arith, level_step, length-append, level_eq, state_goes_on, right, after_bits)
