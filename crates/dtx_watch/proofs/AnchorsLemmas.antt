-- The anchor behind the first of some packets.
use Rattle.std.proofs.Common.{◌≡◌, ℕ, suc, ◌+◌, ◌-◌, ◌<◌, ◌≤◌, Bool, true, false, cond, Option, Some, None, List}
use Rattle.std.proofs.Common.{length, take, drop, refl, sym, ap, ◌∙◌, arith}
use Rattle.std.specs.List.{take-map}
use Rattle.dtx_packets.specs.Packets.{sync_of}
use Rattle.dtx_cadence.specs.Anchor.{ends_lock, anchor_at, anchor_to, anchor}
use Rattle.dtx_cadence.proofs.NextAnchorLemmas.{anchor_take, anchor_below, anchor_to_below, stood}
use Rattle.dtx_exciter.specs.Packets.{syncs, anchor_of, under}
use Rattle.dtx_exciter.proofs.UnderLemmas.{length-syncs}

-- by their sync bytes
to_front : (d : List (List ℕ)) (k : ℕ) → k ≤ length d → anchor_of (take k d) ≡ anchor_to (syncs d) k
unfolding anchor_of syncs
to_front d k l = ap anchor (sym (take-map sync_of k d))
    ∙ anchor_take (syncs d) k (omega (arith, l, length-syncs d))

to_all : (d : List (List ℕ)) → anchor_of d ≡ anchor_to (syncs d) (length d)
unfolding anchor_of anchor
to_all d = ap (anchor_to (syncs d)) (length-syncs d)

pub below : (d : List (List ℕ)) (a : ℕ) → anchor_of d ≡ Some a → a < length d
unfolding anchor_of
below d a h = let l : a < length (syncs d) = anchor_below (syncs d) a h in omega (arith, l, length-syncs d)

-- an anchor was the anchor from its own packet on
pub since : (d : List (List ℕ)) (a k : ℕ) → anchor_of d ≡ Some a → a < k → k ≤ length d → anchor_of (take k d) ≡ Some a
since d a k h l m = to_front d k m ∙ stood (syncs d) a k (length d - k) l (grind (arith, to_all))

-- and before that there was none
pub none_before : (d : List (List ℕ)) (a : ℕ) → anchor_of d ≡ Some a → anchor_of (take a d) ≡ None
unfolding anchor_to
none_before d a h =
    let one : a + 1 ≡ suc a = omega arith in
    to_front d a (omega (arith, below d a h))
    ∙ by_before (anchor_to (syncs d) a) (λ j e. anchor_to_below (syncs d) a j e)
    (ap (anchor_to (syncs d)) (sym one) ∙ sym (to_front d (a + 1) (omega (arith, below d a h)))
    ∙ since d a (a + 1) h (omega arith) (omega (arith, below d a h)))
  where
    by_old : (j : ℕ) (b : Bool) → j < a → cond b None (Some j) ≡ Some a → ◌≡◌ {A = Option ℕ} (Some j) None
    by_old j true l e = cc
    by_old j false l e = let q : j ≡ a = cc in absurd (omega (arith, l, q))

    by_before : (o : Option ℕ) → ((j : ℕ) → o ≡ Some j → j < a) → anchor_at (syncs d) a o ≡ Some a → o ≡ None
    by_before None f e = refl
    by_before (Some j) f e = by_old j (ends_lock (syncs d) a j) (f j refl) e

-- packets from the anchor on
pub record IsUnder (d l : List (List ℕ)) : Type 0 where
  pub anchor : ℕ
  pub is : anchor_of d ≡ Some anchor
  pub are : drop anchor d ≡ l
  pub inside : anchor < length d

pub is_under : (d l : List (List ℕ)) → under d ≡ Some l → IsUnder d l
unfolding under
is_under d l h = grind (arith, below)

pub no_anchor : (d : List (List ℕ)) → under d ≡ None → anchor_of d ≡ None
unfolding under
no_anchor d h = grind arith
