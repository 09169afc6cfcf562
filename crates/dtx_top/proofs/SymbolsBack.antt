-- Every symbol that a transmitter sends, whatever it is given, is the symbol of its byte in the symbol file.
use Rattle.std.proofs.Common.{ℕ, ℤ, ◌+◌, ◌-◌, ◌*◌, ◌/◌, ◌%◌, ◌==◌, Bool, true, false, cond, Option, Some, None, List}
use Rattle.std.proofs.Common.{[], ◌∷◌, ◌++◌, length, take, drop, arith}
use Rattle.std.specs.Prelude.{nat_le, is_ok, slice_index_or}
use Rattle.std.specs.List.{range_with_len}
use Rattle.dtx_frame.specs.Segments.{field_sync}
use Rattle.dtx_coder.specs.Along.{levels_since}
use Rattle.dtx_coder.specs.Stream.{whole_groups, segment, four_segments, last_of}
use Rattle.dtx_exciter.specs.Emission.{segments_since, sent_by, sent_at, sent_before, behind_field_sync, given_under}
use Rattle.dtx_exciter.specs.Emission.{last_segments, emission}
use Rattle.dtx_exciter.specs.Order.{Order, orders}
use Rattle.dtx_exciter.specs.Packets.{readings, under}
use Rattle.dtx_exciter.specs.Told.{served}
use Rattle.dtx_jobs.proofs.StreamBackLemmas.{levels_small, segment_back, sync_back}
use Rattle.dtx_jobs.proofs.SymbolsBackLemmas.{AreBack, EachBack, IsBack, each_at, each_drop, each_flat, each_range}
use Rattle.dtx_net.specs.Lives.{lives_of, sent_segments}
use Rattle.dtx_net.specs.Steps.{Step}
use Rattle.dtx_plan.specs.declared.transmitter.Transmitter.{Transmitter}

-- ---- what is sent

since_back : (g : ℕ) (q : List ℕ) (packets : List (List ℕ)) (u : ℕ) → EachBack (segments_since g q packets u)
unfolding segments_since four_segments levels_since
since_back g q packets u = each_range AreBack (segment (levels_since g q packets)) (4 * (u - g)) 4
    (λ n l m. segment_back (levels_since g q packets) n
    (levels_small (4 * g % 312) q (drop (828 * g) (whole_groups packets))))

by_back : (address delay : ℕ) (packets : List (List ℕ)) (i : ℕ) (said : List Order)
    → EachBack (sent_by address delay packets i said)
by_back address delay packets i [] = tt
by_back address delay packets i (order ∷ older) = by_test (is_ok (served address delay (order ∷ older)))
  where
    by_test : (t : Bool) → EachBack (cond t (segments_since (order.place / 4) order.ops.states packets (i / 4)) [])
    by_test true = since_back (order.place / 4) order.ops.states packets (i / 4)
    by_test false = tt

at_back : (address delay : ℕ) (packets : List (List ℕ)) (i : ℕ) → EachBack (sent_at address delay packets i)
unfolding sent_at
at_back address delay packets i = by_back address delay packets i (orders (readings packets) i)

before_back : (address delay : ℕ) (packets : List (List ℕ)) (i : ℕ) → EachBack (sent_before address delay packets i)
before_back address delay packets i = by_test (nat_le 4 i)
  where
    by_test : (t : Bool) → EachBack (cond t (sent_at address delay packets (i - 4)) [])
    by_test true = at_back address delay packets (i - 4)
    by_test false = tt

with_back : (i : ℕ) (before sent : List (List ℤ)) → EachBack before → EachBack sent
    → EachBack (behind_field_sync i before sent)
unfolding last_of
with_back i before [] h g = tt
with_back i [] (s ∷ ss) h g = g
with_back i (b ∷ bs) (s ∷ ss) h g = by_test (i % 312 == 0)
  where
    by_test : (t : Bool)
        → EachBack (cond t (field_sync (nat_le 312 (i % 624)) (last_of (slice_index_or (b ∷ bs) (length bs) [])) ∷ [])
        [] ++ s ∷ ss)
    by_test true = (
      sync_back (nat_le 312 (i % 624)) (last_of (slice_index_or (b ∷ bs) (length bs) []))
          (each_drop IsBack 820 (slice_index_or (b ∷ bs) (length bs) []) (grind (arith, each_at))),
      g,
    )
    by_test false = g

under_back : (address delay : ℕ) (found : Option (List (List ℕ))) → EachBack (given_under address delay found)
under_back address delay None = tt
under_back address delay (Some packets) = by_test (length packets % 4 == 0)
  where
    i : ℕ
    i = length packets - 4

    by_test : (t : Bool) → EachBack (cond t (behind_field_sync i (sent_before address delay packets i)
        (sent_at address delay packets i)) [])
    by_test true = with_back i (sent_before address delay packets i) (sent_at address delay packets i)
        (before_back address delay packets i) (at_back address delay packets i)
    by_test false = tt

-- what a transmitter sends
pub sent_back : (t : Transmitter) (who : ℕ) (steps : List Step) → EachBack (sent_segments t who steps)
unfolding sent_segments emission last_segments
sent_back t who steps = each_flat AreBack (emission t.address t.delay) (lives_of who steps)
    (λ packets. each_flat AreBack (λ n. last_segments t.address t.delay (take (n + 1) packets))
    (range_with_len 0 (length packets)) (λ n. (under_back t.address t.delay (under (take (n + 1) packets)))))
