-- The laws of interleaving.
use Rattle.std.proofs.Common.{◌≡◌, ℕ, ◌+◌, ◌-◌, ◌*◌, ◌/◌, ◌%◌, ◌<◌, ◌≤◌, ◌⊎◌, ◌==◌, nat_le, cond, inl, inr, List, ◌∷◌}
use Rattle.std.proofs.Common.{◌++◌, length, get_or, take, refl, sym, ap, ◌∙◌, arith, map, add-mul, mul-le-mul_right}
use Rattle.std.proofs.Common.{div-add-mod', []}
use Rattle.std.specs.List.{concat, range_with_len}
use Rattle.std.proofs.lemmas.Bool.{cases_lt, cases_eq, cond-true, cond-false, le-leb, lt-leb}
use Rattle.std.proofs.lemmas.Nat.{mod_below}
use Rattle.std.proofs.lemmas.List.{length-set, length-append, get_or-set_same, get_or-set_other, get_or_append_left}
use Rattle.std.proofs.lemmas.List.{ext_get_or, length-take-le, get_or-take, length-replicate, get_or-replicate}
use Rattle.std.proofs.lemmas.List.FromFn.{get_or-map-range_with_len, length-map-range_with_len}
use Rattle.dtx_laws.specs.Branches.{Branching, HasWidths, spreading, zeroed, aligned, after_byte, leaving_all}
use Rattle.dtx_laws.specs.Branches.{after_all, leaving_calls, after_calls}
use Rattle.dtx_laws.specs.Interleaving.{interleaved_at, interleaved, IsInterleavedBehind}
use Rattle.dtx_laws.proofs.PlacesLemmas.{aligned_gives, stream_come, stream_held, length_leaving, leaving_append}
use Rattle.dtx_laws.proofs.PlacesLemmas.{after_append, length_moved}

-- ---- the maps

-- Both maps move bytes on by their branches' delays: byte n is that of x from d (n mod b) places before it, or 0.
abbrev pub moved_at : ℕ → (ℕ → ℕ) → List ℕ → ℕ → ℕ
moved_at b d x n = cond (nat_le (d (n % b)) n) (get_or x (n - d (n % b)) 0) 0

abbrev pub moved : ℕ → (ℕ → ℕ) → List ℕ → List ℕ
moved b d x = map (moved_at b d x) (range_with_len 0 (length x))

pub length-moved : (b : ℕ) (d : ℕ → ℕ) (x : List ℕ) → length (moved b d x) ≡ length x
length-moved b d x = length-map-range_with_len (moved_at b d x) 0 (length x)

pub get_or-moved : (b : ℕ) (d : ℕ → ℕ) (x : List ℕ) (n : ℕ) → n < length x → get_or (moved b d x) n 0 ≡ moved_at b d x n
get_or-moved b d x n l = get_or-map-range_with_len (moved_at b d x) 0 (length x) n n 0 l (omega arith)

pub moved_come : (b : ℕ) (d : ℕ → ℕ) (x : List ℕ) (n : ℕ) → d (n % b) ≤ n
    → moved_at b d x n ≡ get_or x (n - d (n % b)) 0
moved_come b d x n h = cond-true (nat_le (d (n % b)) n) (get_or x (n - d (n % b)) 0) 0 (le-leb (d (n % b)) n h)

pub moved_held : (b : ℕ) (d : ℕ → ℕ) (x : List ℕ) (n : ℕ) → n < d (n % b) → moved_at b d x n ≡ 0
moved_held b d x n h = cond-false (nat_le (d (n % b)) n) (get_or x (n - d (n % b)) 0) 0 (lt-leb (d (n % b)) n h)

-- later bytes leave the earlier ones alone
pub moved-append : (b : ℕ) (d : ℕ → ℕ) (x z : List ℕ) → take (length x) (moved b d (x ++ z)) ≡ moved b d x
moved-append b d x z =
    let long : length (take (length x) (moved b d (x ++ z))) ≡ length x =
    length-take-le (length x) (moved b d (x ++ z)) (omega (arith, length-moved b d (x ++ z), length-append x z)) in
    ext_get_or 0 (take (length x) (moved b d (x ++ z))) (moved b d x) (long ∙ sym (length-moved b d x))
    (λ i l. grind (arith, get_or-take, long, get_or-moved, length-append, get_or_append_left))

abbrev pub spread_by : ℕ → ℕ → ℕ → ℕ
spread_by b m r = b * m * r

pub length-interleaved : (b m : ℕ) (x : List ℕ) → length (interleaved b m x) ≡ length x
unfolding interleaved
length-interleaved b m x = length-moved b (spread_by b m) x

pub get_or-interleaved : (b m : ℕ) (x : List ℕ) (n : ℕ) → n < length x
    → get_or (interleaved b m x) n 0 ≡ interleaved_at b m x n
unfolding interleaved
get_or-interleaved b m x n l = get_or-moved b (spread_by b m) x n l

pub interleaved-append : (b m : ℕ) (x z : List ℕ) → take (length x) (interleaved b m (x ++ z)) ≡ interleaved b m x
unfolding interleaved
interleaved-append b m x z = moved-append b (spread_by b m) x z

-- ---- any cut into calls

pub leaving_calls_is : (b : ℕ) (v : Branching) (calls : List (List ℕ))
    → leaving_calls b v calls ≡ leaving_all b v (concat calls)
unfolding leaving_calls leaving_all
leaving_calls_is b v [] = refl
leaving_calls_is b v (x ∷ xs) = ap (λ ys. leaving_all b v x ++ ys) (leaving_calls_is b (after_all b v x) xs)
    ∙ sym (leaving_append b v x (concat xs))

pub after_calls_is : (b : ℕ) (v : Branching) (calls : List (List ℕ))
    → after_calls b v calls ≡ after_all b v (concat calls)
unfolding after_calls after_all
after_calls_is b v [] = refl
after_calls_is b v (x ∷ xs) = after_calls_is b (after_all b v x) xs ∙ sym (after_append b v x (concat xs))

-- ---- the widths

next_below : (b n : ℕ) → n < b → (n + 1 ≡ b) ⊎ (n + 1 ≡ b → ⊥) → cond (n + 1 == b) 0 (n + 1) < b
next_below b n l h = search (arith, cond-true, cond-false)

HasWidths-byte : (b : ℕ) (w : ℕ → ℕ) (v : Branching) (byte : ℕ) → HasWidths b w v → HasWidths b w (after_byte b v byte)
HasWidths-byte b w v byte h =
    grind (arith, next_below, cases_eq, length-set, get_or-set_same, length_moved, get_or-set_other)

pub HasWidths-all : (b : ℕ) (w : ℕ → ℕ) (v : Branching) (x : List ℕ) → HasWidths b w v → HasWidths b w (after_all b v x)
unfolding after_all
HasWidths-all b w v [] h = h
HasWidths-all b w v (x ∷ xs) h = HasWidths-all b w (after_byte b v x) xs (HasWidths-byte b w v x h)

pub HasWidths-aligned : (b : ℕ) (w : ℕ → ℕ) (v : Branching) → HasWidths b w v → HasWidths b w (aligned v)
HasWidths-aligned b w v h = record { next = omega (arith, h.next); count = h.count; long = h.long }

pub HasWidths-zeroed : (b : ℕ) (w : ℕ → ℕ) → 0 < b → HasWidths b w (zeroed b w)
unfolding zeroed
HasWidths-zeroed b w p = grind (arith, length-map-range_with_len, get_or-map-range_with_len, length-replicate)

-- ---- behind an align

turns_least : (q d b r : ℕ) → d * b ≤ q * b + r → r < b → d ≤ q
turns_least q d b r h l = grind (arith, cases_lt, mul-le-mul_right)

minus : (b q d r n : ℕ) → n ≡ q * b + r → d ≤ q → (q - d) * b + r ≡ n - d * b
minus b q d r n e k = grind (arith, add-mul)

below_turn : (q d b r n : ℕ) → n ≡ q * b + r → n < d * b → q < d
below_turn q d b r n e h = grind (arith, cases_lt, mul-le-mul_right)

-- the delay of a byte, in turns: its branch's width
pub in_turns : (b m r : ℕ) → b * m * r ≡ m * r * b
in_turns b m r = grind arith

-- whatever the widths are: the byte whose source has come
pub come_by : (b d : ℕ) (w : ℕ → ℕ) (v : Branching) (x : List ℕ) (n : ℕ) → HasWidths b w v → v.next ≡ 0 → n < length x
    → d ≡ w (n % b) * b → d ≤ n → get_or (leaving_all b v x) n 0 ≡ get_or x (n - d) 0
come_by b d w v x n s z l t h =
    let p : 0 < b = omega (arith, s.next) in
    let k : w (n % b) ≤ n / b = turns_least (n / b) (w (n % b)) b (n % b) (omega (arith, h, t)) (mod_below n b p) in
    aligned_gives b w v x p s z n l ∙ stream_come b w v x (n % b) (n / b) k ∙ ap (λ i. get_or x i 0)
    (minus b (n / b) (w (n % b)) (n % b) n (sym (div-add-mod' n b)) k ∙ ap (λ i. n - i) (sym t))

pub held_turn_by : (b d : ℕ) (w : ℕ → ℕ) (n : ℕ) → d ≡ w (n % b) * b → n < d → n / b < w (n % b)
held_turn_by b d w n t h = below_turn (n / b) (w (n % b)) b (n % b) n (sym (div-add-mod' n b)) (omega (arith, h, t))

-- and the byte that a branch held
pub held_by : (b d : ℕ) (w : ℕ → ℕ) (v : Branching) (x : List ℕ) (n : ℕ) → HasWidths b w v → v.next ≡ 0 → n < length x
    → d ≡ w (n % b) * b → n < d → get_or (leaving_all b v x) n 0 ≡ get_or (get_or v.lists (n % b) []) (n / b) 0
held_by b d w v x n s z l t h = aligned_gives b w v x (omega (arith, s.next)) s z n l
    ∙ stream_held b w v x (n % b) (n / b) (held_turn_by b d w n t h)

pub come_at : (b m : ℕ) (v : Branching) (x : List ℕ) (n : ℕ) → HasWidths b (spreading m) v → v.next ≡ 0 → n < length x
    → b * m * (n % b) ≤ n → get_or (leaving_all b v x) n 0 ≡ get_or x (n - b * m * (n % b)) 0
come_at b m v x n s z l h = come_by b (b * m * (n % b)) (spreading m) v x n s z l (in_turns b m (n % b)) h

pub at_held : (b m : ℕ) (x : List ℕ) (n : ℕ) → n < b * m * (n % b) → interleaved_at b m x n ≡ 0
at_held b m x n h = moved_held b (spread_by b m) x n h

pub behind : (b m : ℕ) (v : Branching) (x : List ℕ) → HasWidths b (spreading m) v → v.next ≡ 0
    → IsInterleavedBehind b m v.lists x (leaving_all b v x)
behind b m v x s z = record {
  long = length_leaving b v x;
  come = λ n l h. come_at b m v x n s z l h
      ∙ sym (get_or-interleaved b m x n l ∙ moved_come b (spread_by b m) x n h);
  held = λ n l h. held_by b (b * m * (n % b)) (spreading m) v x n s z l (in_turns b m (n % b)) h;
  within = λ n l h. omega (
    arith,
    held_turn_by b (b * m * (n % b)) (spreading m) n (in_turns b m (n % b)) h,
    s.long (n % b) (mod_below n b (omega (arith, s.next))),
  );
}

pub behind_calls : (b m : ℕ) (v : Branching) (calls : List (List ℕ)) → HasWidths b (spreading m) v
    → IsInterleavedBehind b m v.lists (concat calls) (leaving_calls b (aligned v) calls)
behind_calls b m v calls s = rw (leaving_calls_is b (aligned v) calls)
    (behind b m (aligned v) (concat calls) (HasWidths-aligned b (spreading m) v s) refl)

-- ---- from zeros

pub zeros_at : (b : ℕ) (w : ℕ → ℕ) (i k : ℕ) → i < b → k < w i → get_or (get_or (zeroed b w).lists i []) k 0 ≡ 0
unfolding zeroed
zeros_at b w i k l h = grind (arith, get_or-map-range_with_len, get_or-replicate)

pub next-zeroed : (b : ℕ) (w : ℕ → ℕ) → (zeroed b w).next ≡ 0
unfolding zeroed
next-zeroed b w = refl

pub zeros_move : (b : ℕ) (w d : ℕ → ℕ) (x : List ℕ) → 0 < b → ((r : ℕ) → d r ≡ w r * b)
    → leaving_all b (zeroed b w) x ≡ moved b d x
zeros_move b w d x p t = ext_get_or 0 (leaving_all b (zeroed b w) x) (moved b d x)
    (length_leaving b (zeroed b w) x ∙ sym (length-moved b d x))
    (λ n l. by_cases n (omega (arith, l, length_leaving b (zeroed b w) x)) (cases_lt n (d (n % b))))
  where
    by_cases : (n : ℕ) → n < length x → (n < d (n % b)) ⊎ (d (n % b) ≤ n)
        → get_or (leaving_all b (zeroed b w) x) n 0 ≡ get_or (moved b d x) n 0
    by_cases n l (inl h) =
        held_by b (d (n % b)) w (zeroed b w) x n (HasWidths-zeroed b w p) (next-zeroed b w) l (t (n % b)) h
        ∙ zeros_at b w (n % b) (n / b) (mod_below n b p) (held_turn_by b (d (n % b)) w n (t (n % b)) h)
        ∙ sym (get_or-moved b d x n l ∙ moved_held b d x n h)
    by_cases n l (inr h) =
        come_by b (d (n % b)) w (zeroed b w) x n (HasWidths-zeroed b w p) (next-zeroed b w) l (t (n % b)) h
        ∙ sym (get_or-moved b d x n l ∙ moved_come b d x n h)

pub zeros_give : (b m : ℕ) (x : List ℕ) → 0 < b → leaving_all b (zeroed b (spreading m)) x ≡ interleaved b m x
unfolding interleaved
zeros_give b m x p = zeros_move b (spreading m) (spread_by b m) x p (in_turns b m)

pub zeros_calls : (b m : ℕ) (calls : List (List ℕ)) → 0 < b
    → leaving_calls b (zeroed b (spreading m)) calls ≡ interleaved b m (concat calls)
zeros_calls b m calls p = leaving_calls_is b (zeroed b (spreading m)) calls ∙ zeros_give b m (concat calls) p
