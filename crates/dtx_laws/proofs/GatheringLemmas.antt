-- The laws of de-interleaving.
use Rattle.std.proofs.Common.{◌≡◌, ℕ, ◌+◌, ◌-◌, ◌*◌, ◌/◌, ◌%◌, ◌<◌, ◌≤◌, ◌⊎◌, inl, inr, List, ◌++◌, length, get_or}
use Rattle.std.proofs.Common.{take, refl, sym, ap, ◌∙◌, arith, add-mul, mul-add, div-add-mod', rules}
use Rattle.std.specs.List.{concat}
use Rattle.std.proofs.lemmas.Bool.{cases_lt}
use Rattle.std.proofs.lemmas.Nat.{mod-mul-add, mod_below}
use Rattle.dtx_laws.specs.Branches.{Branching, HasWidths, spreading, gathering, zeroed, aligned, leaving_all}
use Rattle.dtx_laws.specs.Branches.{leaving_calls}
use Rattle.dtx_laws.specs.Interleaving.{gathered_at, gathered, IsGatheredBehind, interleaved}
use Rattle.dtx_laws.proofs.PlacesLemmas.{length_leaving}
use Rattle.dtx_laws.proofs.InterleavingLemmas.{in_turns, come_by, held_by, held_turn_by, come_at, leaving_calls_is}
use Rattle.dtx_laws.proofs.InterleavingLemmas.{length-moved, get_or-moved, moved-append, moved_come, moved_held}
use Rattle.dtx_laws.proofs.InterleavingLemmas.{zeros_move, length-interleaved, get_or-interleaved}
use Rattle.dtx_laws.proofs.InterleavingLemmas.{at_held as spread_held, zeros_give as spread_zeros, HasWidths-aligned}

abbrev gathered_by : ℕ → ℕ → ℕ → ℕ
gathered_by b m r = b * m * (b - 1 - r)

-- ---- the map

pub length-gathered : (b m : ℕ) (y : List ℕ) → length (gathered b m y) ≡ length y
unfolding gathered
length-gathered b m y = length-moved b (gathered_by b m) y

pub get_or-gathered : (b m : ℕ) (y : List ℕ) (n : ℕ) → n < length y → get_or (gathered b m y) n 0 ≡ gathered_at b m y n
unfolding gathered
get_or-gathered b m y n l = get_or-moved b (gathered_by b m) y n l

pub gathered-append : (b m : ℕ) (y z : List ℕ) → take (length y) (gathered b m (y ++ z)) ≡ gathered b m y
unfolding gathered
gathered-append b m y z = moved-append b (gathered_by b m) y z

-- ---- behind an align

pub gathers_at : (b m : ℕ) (v : Branching) (y : List ℕ) (n : ℕ) → HasWidths b (gathering b m) v → v.next ≡ 0
    → n < length y → b * m * (b - 1 - n % b) ≤ n
    → get_or (leaving_all b v y) n 0 ≡ get_or y (n - b * m * (b - 1 - n % b)) 0
gathers_at b m v y n s z l h = search (rules, come_by, in_turns)

behind : (b m : ℕ) (v : Branching) (y : List ℕ) → HasWidths b (gathering b m) v → v.next ≡ 0
    → IsGatheredBehind b m v.lists y (leaving_all b v y)
behind b m v y s z = record {
  long = length_leaving b v y;
  come = λ n l h. gathers_at b m v y n s z l h ∙ sym (grind (arith, get_or-gathered, moved_come));
  held = λ n l h. held_by b (b * m * (b - 1 - n % b)) (gathering b m) v y n s z l (in_turns b m (b - 1 - n % b)) h;
  within = λ n l h. omega (
    arith,
    held_turn_by b (b * m * (b - 1 - n % b)) (gathering b m) n (in_turns b m (b - 1 - n % b)) h,
    s.long (n % b) (mod_below n b (omega (arith, s.next))),
  );
}

pub behind_calls : (b m : ℕ) (v : Branching) (calls : List (List ℕ)) → HasWidths b (gathering b m) v
    → IsGatheredBehind b m v.lists (concat calls) (leaving_calls b (aligned v) calls)
behind_calls b m v calls s = rw (leaving_calls_is b (aligned v) calls)
    (behind b m (aligned v) (concat calls) (HasWidths-aligned b (gathering b m) v s) refl)

-- ---- from zeros

zeros_give : (b m : ℕ) (y : List ℕ) → 0 < b → leaving_all b (zeroed b (gathering b m)) y ≡ gathered b m y
unfolding gathered
zeros_give b m y p = zeros_move b (gathering b m) (gathered_by b m) y p (λ r. in_turns b m (b - 1 - r))

pub zeros_calls : (b m : ℕ) (calls : List (List ℕ)) → 0 < b
    → leaving_calls b (zeroed b (gathering b m)) calls ≡ gathered b m (concat calls)
zeros_calls b m calls p = leaving_calls_is b (zeroed b (gathering b m)) calls ∙ zeros_give b m (concat calls) p

-- ---- both ways

-- a byte waits the same in all, whatever its branch
pub delays : (b m r : ℕ) → r < b → b * m * (b - 1 - r) + b * m * r ≡ b * m * (b - 1)
delays b m r l = sym (mul-add (b * m) (b - 1 - r) r) ∙ ap (λ x. b * m * x) (omega arith)

-- a place moved by whole turns
pub same_branch : (b n t : ℕ) → 0 < b → t * b ≤ n → (n - t * b) % b ≡ n % b
same_branch b n t p h = sym (ap (λ i. i % b) (grind (arith, div-add-mod', add-mul))
    ∙ mod-mul-add ((n - t * b) / b + t) b ((n - t * b) % b) (mod_below (n - t * b) b p))

pub gathered_back : (b m : ℕ) (s g : Branching) (x : List ℕ) (n : ℕ) → HasWidths b (spreading m) s
    → HasWidths b (gathering b m) g → n < length x → b * m * (b - 1) ≤ n
    → get_or (leaving_all b (aligned g) (leaving_all b (aligned s) x)) n 0 ≡ get_or x (n - b * m * (b - 1)) 0
gathered_back b m s g x n hs hg l d =
    let r : n % b < b = mod_below n b (omega (arith, hs.next)) in
    let w : b * m * (b - 1 - n % b) + b * m * (n % b) ≡ b * m * (b - 1) = delays b m (n % b) r in
    let c : b * m * (b - 1 - n % b) ≤ n = omega arith in
    let t : b * m * (b - 1 - n % b) ≡ m * (b - 1 - n % b) * b = in_turns b m (b - 1 - n % b) in
    let q : (n - b * m * (b - 1 - n % b)) % b ≡ n % b = grind (arith, same_branch) in
    let e : b * m * ((n - b * m * (b - 1 - n % b)) % b) ≡ b * m * (n % b) = ap (λ i. b * m * i) q in
    gathers_at b m (aligned g) (leaving_all b (aligned s) x) n (HasWidths-aligned b (gathering b m) g hg) refl
    (omega (arith, length_leaving b (aligned s) x)) c
    ∙ come_at b m (aligned s) x (n - b * m * (b - 1 - n % b)) (HasWidths-aligned b (spreading m) s hs) refl
    (omega arith) (omega (arith, e, w, d)) ∙ ap (λ i. get_or x i 0) (omega (arith, e, w, d))

-- before the first byte, from zeros
pub gathered_zeros : (b m : ℕ) (x : List ℕ) (n : ℕ) → 0 < b → n < length x → n < b * m * (b - 1)
    → get_or (leaving_all b (zeroed b (gathering b m)) (leaving_all b (zeroed b (spreading m)) x)) n 0 ≡ 0
gathered_zeros b m x n p l d =
    let r : n % b < b = mod_below n b p in
    ap (λ ys. get_or ys n 0) (ap (leaving_all b (zeroed b (gathering b m))) (spread_zeros b m x p)
    ∙ zeros_give b m (interleaved b m x) p)
    ∙ get_or-gathered b m (interleaved b m x) n (omega (arith, l, length-interleaved b m x))
    ∙ by_place (cases_lt n (b * m * (b - 1 - n % b)))
  where
    by_place : (n < b * m * (b - 1 - n % b)) ⊎ (b * m * (b - 1 - n % b) ≤ n) → gathered_at b m (interleaved b m x) n ≡ 0
    by_place (inl h) = moved_held b (gathered_by b m) (interleaved b m x) n h
    by_place (inr h) = grind (arith, delays, in_turns, same_branch, moved_come, get_or-interleaved, spread_held)
