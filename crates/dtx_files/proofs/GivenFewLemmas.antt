-- How many segments a packet gives.
use Rattle.std.proofs.Common.{ℕ, ℤ, ◌+◌, ◌-◌, ◌*◌, ◌/◌, ◌%◌, ◌≤◌, Bool, true, false, cond, List, [], ◌∷◌, ◌++◌, length}
use Rattle.std.proofs.Common.{arith}
use Rattle.std.specs.Prelude.{◌==◌, Option, Some, None, is_ok}
use Rattle.std.proofs.lemmas.List.FromFn.{length-map-range_with_len}
use Rattle.dtx_coder.specs.Along.{levels_since}
use Rattle.dtx_coder.specs.Stream.{segment, four_segments}
use Rattle.dtx_exciter.specs.Emission.{segments_since, sent_by, sent_at, sent_before, behind_field_sync, given_under}
use Rattle.dtx_exciter.specs.Emission.{last_segments}
use Rattle.dtx_exciter.specs.Order.{Order, orders}
use Rattle.dtx_exciter.specs.Packets.{under, readings}
use Rattle.dtx_exciter.specs.Told.{served}

four : (a d : ℕ) (l : List (List ℕ)) (i : ℕ) (os : List Order) → length (sent_by a d l i os) ≤ 4
unfolding segments_since four_segments
four a d l i [] = omega arith
four a d l i (order ∷ older) = by_served (is_ok (served a d (order ∷ older)))
  where
    by_served : (b : Bool) → length (cond b (segments_since (order.place / 4) order.ops.states l (i / 4)) []) ≤ 4
    by_served true =
        omega (
          arith,
          length-map-range_with_len (segment (levels_since (order.place / 4) order.ops.states l))
              (4 * (i / 4 - order.place / 4)) 4,
        )
    by_served false = omega arith

one_more : (b : Bool) (s : List ℤ) (ss : List (List ℤ)) → length (cond b (s ∷ []) [] ++ ss) ≤ length ss + 1
one_more true s ss = omega arith
one_more false s ss = omega arith

synced : (i : ℕ) (before ss : List (List ℤ)) → length (behind_field_sync i before ss) ≤ length ss + 1
synced i before [] = omega arith
synced i [] (s ∷ ss) = omega arith
synced i (b ∷ bs) (s ∷ ss) = one_more (i % 312 == 0) _ (s ∷ ss)

five_under : (a d : ℕ) (o : Option (List (List ℕ))) → length (given_under a d o) ≤ 5
unfolding sent_at
five_under a d None = omega arith
five_under a d (Some l) = by_whole (length l % 4 == 0)
  where
    i : ℕ
    i = length l - 4

    by_whole : (b : Bool) → length (cond b (behind_field_sync i (sent_before a d l i) (sent_at a d l i)) []) ≤ 5
    by_whole true = omega (
      arith,
      synced i (sent_before a d l i) (sent_at a d l i),
      four a d l i (orders (readings l) i),
    )
    by_whole false = omega arith

-- a packet gives at most five segments
pub given_few : (a d : ℕ) (l : List (List ℕ)) → length (last_segments a d l) ≤ 5
unfolding last_segments
given_few a d l = five_under a d (under l)
