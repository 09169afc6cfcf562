-- What the first group of a stretch gives: its data segments, behind a field sync where the group before it was sent.
use Rattle.std.proofs.Common.{◌≡◌, ℕ, ℤ, ◌+◌, ◌-◌, ◌*◌, ◌%◌, ◌≤◌, Some, List, [], ◌∷◌, ◌++◌, length, take, drop, refl}
use Rattle.std.proofs.Common.{sym, ap, ap₂, ◌∙◌, arith}
use Rattle.std.specs.Prelude.{nat_le}
use Rattle.std.proofs.lemmas.Bool.{cond-true, le-leb}
use Rattle.std.proofs.lemmas.List.{append_assoc}
use Rattle.dtx_lists.proofs.Range.{map-range_same}
use Rattle.dtx_coder.specs.Along.{levels_since}
use Rattle.dtx_coder.specs.Stream.{levels, segment, four_segments}
use Rattle.dtx_exciter.specs.Emission.{segments_since, sent_at, sent_before, behind_field_sync, given_under}
use Rattle.dtx_exciter.specs.Stretch.{sync_behind}
use Rattle.dtx_exciter.proofs.ForceLemmas.{force_left, force_stands}
use Rattle.dtx_exciter.proofs.GroupSentLemmas.{since_front}
use Rattle.dtx_exciter.proofs.InLifeLemmas.{life, length-life, Marks, IsGroup, upto, given_last, place_of, sent_same}
use Rattle.dtx_exciter.proofs.SinceMarkLemmas.{take_parts}
use Rattle.dtx_exciter.proofs.UnderLemmas.{length-said, said_append}

-- ---- the field sync

-- it stands in front of a group's data segments
sync_first : (i : ℕ) (b : List (List ℤ)) (zs : List ℕ) (k : ℕ)
    → behind_field_sync i b (four_segments zs k) ≡ sync_behind b i ++ four_segments zs k
unfolding four_segments
sync_first i [] zs k = refl
sync_first i (s ∷ ss) zs k = refl

-- at another place of the same kind
sync_place : (b : List (List ℤ)) (i k : ℕ) → i % 624 ≡ k % 624 → sync_behind b i ≡ sync_behind b k
sync_place [] i k e = refl
sync_place (s ∷ ss) i k e = grind arith

-- a field sync that stands in front of the group before changes nothing
sync_over : (j k : ℕ) (b ss : List (List ℤ)) → sync_behind (behind_field_sync j b ss) k ≡ sync_behind ss k
sync_over j k b [] = refl
sync_over j k [] (s ∷ ss) = refl
sync_over j k (c ∷ cs) (s ∷ ss) = grind arith

-- ---- the group before it

segments_front : (l r : List (List ℕ)) (u g : ℕ) (q : List ℕ) → length l ≡ 4 * (u + 1) → g ≤ u
    → segments_since g q (l ++ r) u ≡ segments_since g q l u
unfolding segments_since four_segments
segments_front l r u g q e h =
    map-range_same (segment (levels_since g q (l ++ r))) (segment (levels_since g q l)) (4 * (u - g)) 4
    (λ k a b. since_front l r (u + 1) g k q e (omega (arith, h)) (omega (arith, h, b)))

-- what is sent of it is the same where packets follow
sent_front : (a d : ℕ) (l r : List (List ℕ)) (i : ℕ) → length l ≡ i + 4 → i % 4 ≡ 0
    → sent_at a d (l ++ r) i ≡ sent_at a d l i
unfolding sent_at
sent_front a d l r i e w = grind (arith, said_append, force_left, length-said, force_stands, segments_front)

-- ---- the first group

pub given_first : (a d : ℕ) (z : ℤ) (base feed : List (List ℕ)) (mark n first : ℕ) → Marks a d z base feed mark n
    → IsGroup a feed mark n first first → given_under a d (Some (life base feed mark (first + 4)))
    ≡ sync_behind (given_under a d (Some (life base feed mark first))) (mark + first)
    ++ four_segments (levels (upto feed mark (first + 4))) (mark + first)
given_first a d z base feed mark n first m g = given_last a d base feed mark first inside g.group m.at_other
    ∙ ap₂ (behind_field_sync (length base + first)) before (sent_same a d z base feed mark n (first + 4) first first m
    (place_of a feed mark n first first first g (omega arith) g.group (omega arith)))
    ∙ sync_first (length base + first) (sent_at a d (life base feed mark first) (length base + (first - 4)))
    (levels (upto feed mark (first + 4))) (mark + first)
    ∙ ap (λ x. x ++ four_segments (levels (upto feed mark (first + 4))) (mark + first))
    (grind (arith, sync_place, life, earlier, sync_over))
  where
    inside : mark + (first + 4) ≤ length feed
    inside = let i = m.inside in let w = g.within in omega (arith, i, w)

    far : 52 ≤ first
    far = g.flushed

    four : first - 4 + 4 ≡ first
    four = omega (arith, far)

    long : length (life base feed mark first) ≡ length base + (first - 4) + 4
    long = omega (arith, far, length-life base feed mark first (omega (arith, inside)))

    longer : life base feed mark (first + 4) ≡ life base feed mark first ++ take 4 (drop first (drop mark feed))
    longer = ap (λ x. base ++ x) (take_parts first 4 (drop mark feed))
        ∙ sym (append_assoc base (take first (drop mark feed)) (take 4 (drop first (drop mark feed))))

    at : length base + first - 4 ≡ length base + (first - 4)
    at = omega (arith, far)

    before : sent_before a d (life base feed mark (first + 4)) (length base + first)
        ≡ sent_at a d (life base feed mark first) (length base + (first - 4))
    before = cond-true (nat_le 4 (length base + first)) _ _ (le-leb 4 (length base + first) (omega (arith, far)))
        ∙ ap₂ (sent_at a d) longer at
        ∙ sent_front a d (life base feed mark first) (take 4 (drop first (drop mark feed)))
        (length base + (first - 4)) long (let w = g.whole in let m2 = m.at_other in omega (arith, w, m2, far))

    earlier : given_under a d (Some (life base feed mark first))
        ≡ behind_field_sync (length base + (first - 4)) (sent_before a d (life base feed mark first)
        (length base + (first - 4))) (sent_at a d (life base feed mark first) (length base + (first - 4)))
    earlier = grind (arith, life, given_last)
