-- A coder's path, one step further.
use Rattle.std.proofs.Common.{◌≡◌, ◌≢◌, ◌⊎◌, inl, inr, ℕ, zero, suc, ℤ, pos, ◌+◌, ◌*◌, ◌<◌, ◌≤◌, ◌+ℤ◌, ◌≤ℤ◌, ◌*ℤ◌, []}
use Rattle.std.proofs.Common.{length, w8}
use mir.Syntax.{w16, w32}
use mir.Val.{SFits}
use Rattle.dtx_soft.proofs.WrapsLemmas.{read, sum_read}
use Rattle.std.proofs.Common.{List, get_or, sym, ◌∙◌, subst, arith}
use Rattle.std.proofs.lemmas.Bool.{cases_eq}
use Rattle.std.proofs.lemmas.Int.{ints}
use Rattle.std.proofs.lemmas.List.{get_or_default}
use Rattle.dtx_pins.specs.Pins.{pin_at}
use Rattle.dtx_pins.specs.declared.told.Excess.{Excess}
use Rattle.dtx_pins.specs.declared.told.Lane.{Lane}
use Rattle.dtx_pins.specs.Told.{IsLane, IsWithin, beginning, emptied, excess_with, if_bit, lane_after, signed}

-- a number is k, or its negative where the bit is 1
pub record IsSigned (bit k : ℕ) (number : ℤ) : Type 0 where
  pub is : number ≡ signed bit (pos k)
  pub from : pos 0 ≤ℤ (number +ℤ pos k)
  pub to : number ≤ℤ pos k

pub is_signed : (bit k : ℕ) (number whole : ℤ) → number ≡ signed bit whole → whole ≡ pos k → IsSigned bit k number
is_signed bit k number whole e f = grind (arith, ints)

pub same_excess : (a b : Excess ℤ) → a.far ≡ b.far → a.near ≡ b.near → a.other_near ≡ b.other_near
    → a.both ≡ b.both → a.other_both ≡ b.other_both → a ≡ b
same_excess a b e f g h i = grind arith

pub same_lane : (a b : Lane) → a.former ≡ b.former → a.q1 ≡ b.q1 → a.q0 ≡ b.q0 → a.more ≡ b.more → a ≡ b
same_lane a b e f g h = grind arith

-- the first n coders have taken a step, and the others have not
pub record AreLanesAfter (scale : ℕ) (pins : List ℕ) (symbols : List ℤ) (n : ℕ) (old new : ℕ → Lane) : Type 0 where
  pub done : (k : ℕ) → k < n → new k ≡ lane_after scale (get_or pins k 0) (get_or symbols k (pos 0)) (old k)
  pub small : (m k : ℕ) → k < n → IsLane m (old k) → IsLane (m + 1) (new k)
  pub left : (k : ℕ) → n ≤ k → new k ≡ old k
  pub bytes : (k : ℕ) → k < n → SFits w8 (get_or symbols k (pos 0))

pub lane_stepped : (scale : ℕ) (pins : List ℕ) (symbols : List ℤ) (n : ℕ) (old now new : ℕ → Lane)
    → ((k : ℕ) → k ≢ n → new k ≡ now k) → new n ≡ lane_after scale (get_or pins n 0) (get_or symbols n (pos 0)) (old n)
    → ((m : ℕ) → IsLane m (old n) → IsLane (m + 1) (new n)) → SFits w8 (get_or symbols n (pos 0))
    → AreLanesAfter scale pins symbols n old now → AreLanesAfter scale pins symbols (n + 1) old new
lane_stepped scale pins symbols n old now new others step small byte h = record {
  done = λ k l. done k l (cases_eq k n);
  small = λ m k l lane. elim (cases_eq k n) [
    | inl e ↦ subst (λ k. IsLane (m + 1) (new k)) (sym e) (small m (subst (λ k. IsLane m (old k)) e lane))
    | inr d ↦ subst (IsLane (m + 1)) (sym (others k d)) (h.small m k (omega arith) lane)
  ];
  left = λ k l. others k (λ e. absurd (omega arith)) ∙ h.left k (omega arith);
  bytes = λ k l. byte_at k l (cases_eq k n);
}
  where
    done : (k : ℕ) → k < n + 1 → (k ≡ n) ⊎ (k ≢ n)
        → new k ≡ lane_after scale (get_or pins k 0) (get_or symbols k (pos 0)) (old k)
    done k l (inl e) =
        subst (λ k. new k ≡ lane_after scale (get_or pins k 0) (get_or symbols k (pos 0)) (old k)) (sym e) step
    done k l (inr d) = others k d ∙ h.done k (omega arith)

    byte_at : (k : ℕ) → k < n + 1 → (k ≡ n) ⊎ (k ≢ n) → SFits w8 (get_or symbols k (pos 0))
    byte_at k l (inl e) = subst (λ k. SFits w8 (get_or symbols k (pos 0))) (sym e) byte
    byte_at k l (inr d) = h.bytes k (omega arith)

-- fewer steps
pub within_more : (m n : ℕ) (more : Excess ℤ) → m ≤ n → IsWithin m more → IsWithin n more
within_more m n more l h = record {
  far_from = (let a = h.far_from in omega (arith, ints, a));
  far_to = (let a = h.far_to in omega (arith, ints, a));
  near_from = (let a = h.near_from in omega (arith, ints, a));
  near_to = (let a = h.near_to in omega (arith, ints, a));
  other_near_from = (let a = h.other_near_from in omega (arith, ints, a));
  other_near_to = (let a = h.other_near_to in omega (arith, ints, a));
  both_from = (let a = h.both_from in omega (arith, ints, a));
  both_to = (let a = h.both_to in omega (arith, ints, a));
  other_both_from = (let a = h.other_both_from in omega (arith, ints, a));
  other_both_to = (let a = h.other_both_to in omega (arith, ints, a));
}

pub lane_more : (m n : ℕ) (lane : Lane) → m ≤ n → IsLane m lane → IsLane n lane
lane_more m n lane l h = record {
  former = h.former;
  q1 = h.q1;
  q0 = h.q0;
  small = within_more m n lane.more l h.small;
}

-- a sum of a lane and what a step adds to it, in numbers of 16 bits
pub summed : (a b x : ℤ) → pos 0 ≤ℤ (a +ℤ pos 16320) → a ≤ℤ pos 16320 → pos 0 ≤ℤ (b +ℤ pos 240) → b ≤ℤ pos 240
    → b ≡ x → read w16 (read w16 a +ℤ read w16 b) ≡ a +ℤ x
summed a b x from to b_from b_to e =
    rw (sum_read w16 (read w16 a) (read w16 b) a b (omega (arith, ints)) (omega (arith, ints)) (omega (arith, ints)), e)

-- a number where a bit is 1
pub record IsBit (bit k : ℕ) (number whole : ℤ) : Type 0 where
  pub is : number ≡ if_bit bit whole
  pub from : pos 0 ≤ℤ (number +ℤ pos k)
  pub to : number ≤ℤ pos k

pub is_bit : (bit k : ℕ) (number raw whole : ℤ) → number ≡ if_bit bit raw → raw ≡ whole
    → pos 0 ≤ℤ (whole +ℤ pos k) → whole ≤ℤ pos k → IsBit bit k number whole
is_bit bit k number raw whole e f from to = grind (arith, ints)

-- each of two, and of eight
pub two : (P : ℕ → Type 0) → P 0 → P 1 → (k : ℕ) → k < 2 → P k
two P a b zero l = a
two P a b (suc zero) l = b
two P a b (suc (suc k)) l = absurd (omega arith)

pub eight : (P : ℕ → ℕ → ℕ → Type 0) → P 0 0 0 → P 0 0 1 → P 0 1 0 → P 0 1 1 → P 1 0 0 → P 1 0 1 → P 1 1 0 → P 1 1 1
    → (p a b : ℕ) → p < 2 → a < 2 → b < 2 → P p a b
eight P c d e f g h i j p a b l m n =
    two (λ p. P p a b) (two (λ a. P 0 a b) (two (P 0 0) c d b n) (two (P 0 1) e f b n) a m)
    (two (λ a. P 1 a b) (two (P 1 0) g h b n) (two (P 1 1) i j b n) a m) p l

pub each_two : (P : ℕ → ℕ → Type 0) → P 0 0 → P 0 1 → P 1 0 → P 1 1 → (p a : ℕ) → p < 2 → a < 2 → P p a
each_two P c d e f p a l m = two (λ p. P p a) (two (P 0) c d a m) (two (P 1) e f a m) p l

-- a pin that was not written over
pub pin_kept : (old now : List (List ℕ)) (r e : ℕ) → r < 69 → e < 12 → r < length old
    → ((i : ℕ) → i < length old → length (get_or old i []) ≡ 12) → ((i : ℕ) → r ≤ i → get_or now i [] ≡ get_or old i [])
    → get_or (get_or now r []) e 0 ≡ pin_at (get_or old r []) e
pin_kept old now r e m l within long left = grind (arith, get_or_default)

-- sums that begin anew
pub emptied_lane : (n : ℕ) (lane : Lane) → IsLane n lane → IsLane 0 (emptied lane)
emptied_lane n lane h = grind (arith, ints)

-- sums with those of the steps before them
pub within_sum : (m n k : ℕ) (total more : Excess ℤ) → k ≡ m + n → IsWithin m total → IsWithin n more
    → IsWithin k (excess_with total more)
within_sum m n k total more e h g = record {
  far_from = (let a = h.far_from in let b = g.far_from in omega (arith, ints, a, b, e));
  far_to = (let a = h.far_to in let b = g.far_to in omega (arith, ints, a, b, e));
  near_from = (let a = h.other_near_from in let b = g.near_from in omega (arith, ints, a, b, e));
  near_to = (let a = h.other_near_to in let b = g.near_to in omega (arith, ints, a, b, e));
  other_near_from = (let a = h.near_from in let b = g.other_near_from in omega (arith, ints, a, b, e));
  other_near_to = (let a = h.near_to in let b = g.other_near_to in omega (arith, ints, a, b, e));
  both_from = (let a = h.other_both_from in let b = g.both_from in omega (arith, ints, a, b, e));
  both_to = (let a = h.other_both_to in let b = g.both_to in omega (arith, ints, a, b, e));
  other_both_from = (let a = h.both_from in let b = g.other_both_from in omega (arith, ints, a, b, e));
  other_both_to = (let a = h.both_to in let b = g.other_both_to in omega (arith, ints, a, b, e));
}

pub beginning_lane : IsLane 0 beginning
beginning_lane = grind (arith, ints)

-- sums of a lane behind a step
pub record IsSum (n : ℕ) (x : ℤ) : Type 0 where
  pub from : pos 0 ≤ℤ (x +ℤ pos (240 * (n + 1)))
  pub to : x ≤ℤ pos (240 * (n + 1))

pub sum_more : (n : ℕ) (a b : ℤ) → pos 0 ≤ℤ (a +ℤ pos 16320) → a ≤ℤ pos 16320 → pos 0 ≤ℤ (b +ℤ pos 240)
    → b ≤ℤ pos 240 → pos 0 ≤ℤ (a +ℤ pos (240 * n)) → a ≤ℤ pos (240 * n) → IsSum n (read w16 (read w16 a +ℤ read w16 b))
sum_more n a b a_from a_to b_from b_to from to = record {
  from = omega (arith, ints, a_from, a_to, b_from, b_to, from);
  to = omega (arith, ints, a_from, a_to, b_from, b_to, to);
}

pub sum_kept : (n : ℕ) (a : ℤ) → pos 0 ≤ℤ (a +ℤ pos 16320) → a ≤ℤ pos 16320 → pos 0 ≤ℤ (a +ℤ pos (240 * n))
    → a ≤ℤ pos (240 * n) → IsSum n (read w16 a)
sum_kept n a a_from a_to from to = record {
  from = omega (arith, ints, a_from, a_to, from);
  to = omega (arith, ints, a_from, a_to, to);
}

-- multiples of a sum where a bit is 1
pub four_times : (bit : ℕ) (number x : ℤ) → number ≡ if_bit bit (read w32 (pos 4 *ℤ read w32 x))
    → pos 0 ≤ℤ (x +ℤ pos 5166720) → x ≤ℤ pos 5166720 → IsBit bit 20666880 number (pos 4 *ℤ x)
four_times bit number x e from to =
    is_bit bit 20666880 number _ (pos 4 *ℤ x) e (omega (arith, ints)) (omega (arith, ints)) (omega (arith, ints))

pub times_32 : (bit : ℕ) (number x : ℤ) → number ≡ if_bit bit (read w32 (pos 32 *ℤ read w32 x))
    → pos 0 ≤ℤ (x +ℤ pos 5166720) → x ≤ℤ pos 5166720 → IsBit bit 165335040 number (pos 32 *ℤ x)
times_32 bit number x e from to =
    is_bit bit 165335040 number _ (pos 32 *ℤ x) e (omega (arith, ints)) (omega (arith, ints)) (omega (arith, ints))
