-- How many segments a packet gives, by its answer.
use Rattle.std.proofs.Common.{◌≡◌, ℕ, ℤ, ◌+◌, ◌-◌, ◌*◌, ◌%◌, ◌≤◌, ◌==◌, ◌&&◌, Bool, true, false, cond, Option, Some}
use Rattle.std.proofs.Common.{None, List, [], ◌∷◌, ◌++◌, length, refl, ap, arith}
use Rattle.std.proofs.lemmas.Bool.{eqb-true, eqb-false, false≢true}
use Rattle.std.proofs.lemmas.List.{length-append}
use Rattle.std.proofs.lemmas.List.FromFn.{length-map-range_with_len}
use Rattle.dtx_cadence.specs.declared.anchor.Seen.{Seen}
use Rattle.dtx_cadence.specs.declared.anchor.Seen.TheVariants.{Free, Start, Lost, At}
use Rattle.dtx_cadence.specs.Anchor.{seen}
use Rattle.dtx_packets.specs.Packets.{sync_of}
use Rattle.dtx_coder.specs.Stream.{four_segments}
use Rattle.dtx_exciter.specs.declared.answers.Told.TheVariants.{Quiet}
use Rattle.dtx_exciter.specs.Order.{Order, orders}
use Rattle.dtx_exciter.specs.Told.{told_at, told_under, is_sent}
use Rattle.dtx_exciter.specs.Packets.{syncs, readings, under, last_answer, part_of, group_part}
use Rattle.dtx_exciter.specs.Emission.{segments_since, sent_by, sent_at, sent_before, behind_field_sync, given_under}
use Rattle.dtx_exciter.specs.Emission.{last_segments, was_sent}
use Rattle.dtx_exciter.specs.Kept.{is_served}
use Rattle.dtx_exciter.proofs.AnswerLemmas.{sent_is_served}
use Rattle.dtx_exciter.proofs.GroupSentLemmas.{none_by}
use Rattle.dtx_exciter.proofs.UnderLemmas.{length-said, Goes, goes}

-- ---- none

-- the answer and the segments of the packets from the anchor on
told_where : (a d : ℕ) (l : List (List ℕ)) → told_under a d (Some (readings l))
    ≡ cond (length l % 4 == 0) (told_at a d (length l - 4) (orders (readings l) (length l - 4))) Quiet
told_where a d l = grind (arith, length-said)

pub none_given : (a d : ℕ) (ps : List (List ℕ)) (p : List ℕ) → is_sent (last_answer a d (ps ++ p ∷ [])) ≡ false
    → last_segments a d (ps ++ p ∷ []) ≡ []
unfolding last_segments sent_at
none_given a d ps p e = grind (arith, told_where, none_by, sent_is_served, goes)

-- ---- four or five

length-sent : (a d : ℕ) (l : List (List ℕ)) (i : ℕ) (o : List Order)
    → length (sent_by a d l i o) ≡ cond (is_served a d o) 4 0
unfolding segments_since four_segments
length-sent a d l i [] = refl
length-sent a d l i (order ∷ older) = grind (arith, length-map-range_with_len)

length-before : (a d : ℕ) (l : List (List ℕ)) (i : ℕ)
    → length (sent_before a d l i) ≡ cond (was_sent a d (readings l) i) 4 0
unfolding sent_at
length-before a d l i = grind (arith, length-sent, sent_is_served)

synced : (i : ℕ) (before ss : List (List ℤ)) (t : Bool) → length before ≡ cond t 4 0 → length ss ≡ 4
    → length (behind_field_sync i before ss) ≡ cond (t && (i % 312 == 0)) 5 4
synced i before [] t e l = absurd (omega (arith, l))
synced i [] (s ∷ ss) true e l = absurd (omega (arith, e))
synced i [] (s ∷ ss) false e l = l
synced i (b ∷ bs) (s ∷ ss) false e l = absurd (omega (arith, e))
synced i (b ∷ bs) (s ∷ ss) true e l = grind arith

HasMany : ℕ → ℕ → List (List ℕ) → Type 0
HasMany a d packets = (l : List (List ℕ)) × (under packets ≡ Some l) × (length (last_segments a d packets)
    ≡ cond (was_sent a d (readings l) (length l - 4) && ((length l - 4) % 312 == 0)) 5 4)

pub some_given : (a d : ℕ) (ps : List (List ℕ)) (p : List ℕ) → is_sent (last_answer a d (ps ++ p ∷ [])) ≡ true
    → (l : List (List ℕ)) × (under (ps ++ p ∷ []) ≡ Some l) × (length (last_segments a d (ps ++ p ∷ []))
    ≡ cond (was_sent a d (readings l) (length l - 4) && ((length l - 4) % 312 == 0)) 5 4)
unfolding HasMany last_segments sent_at
some_given a d ps p e = grind (arith, false≢true, told_where, synced, length-before, length-sent, sent_is_served, goes)

-- ---- at most every fourth packet

given_at : (a d : ℕ) (ps : List (List ℕ)) (o : Option (List (List ℕ))) → under ps ≡ o
    → last_segments a d ps ≡ given_under a d o
unfolding last_segments
given_at a d ps o e = ap (given_under a d) e

part_at : (ps : List (List ℕ)) (o : Option (List (List ℕ))) → under ps ≡ o → group_part ps ≡ part_of o
unfolding group_part
part_at ps o e = ap part_of e

IsSpaced : ℕ → ℕ → List (List ℕ) → List ℕ → Type 0
IsSpaced a d ps p =
    4 * length (last_segments a d (ps ++ p ∷ [])) + 5 * group_part (ps ++ p ∷ []) ≤ 5 * (group_part ps + 1)

spaced_none : (a d : ℕ) (ps : List (List ℕ)) (p : List ℕ) → under (ps ++ p ∷ []) ≡ None → IsSpaced a d ps p
unfolding IsSpaced
spaced_none a d ps p e = omega (arith, ap length (given_at a d (ps ++ p ∷ []) None e), part_at (ps ++ p ∷ []) None e)

spaced_seen : (a d : ℕ) (ps : List (List ℕ)) (p : List ℕ) (s : Seen) → Goes a d ps p s → IsSpaced a d ps p
unfolding IsSpaced
spaced_seen a d ps p Free g = spaced_none a d ps p g.follows
spaced_seen a d ps p Start g = grind (arith, given_at, part_at)
spaced_seen a d ps p Lost g = spaced_none a d ps p g.follows
spaced_seen a d ps p (At place) g =
    grind (arith, given_at, part_at, length-append, eqb-true, eqb-false, some_given, none_given)

pub spaced : (a d : ℕ) (ps : List (List ℕ)) (p : List ℕ)
    → 4 * length (last_segments a d (ps ++ p ∷ [])) + 5 * group_part (ps ++ p ∷ []) ≤ 5 * (group_part ps + 1)
unfolding IsSpaced
spaced a d ps p = spaced_seen a d ps p (seen (syncs ps) (sync_of p)) (goes a d ps p)

pub part_below : (ps : List (List ℕ)) → group_part ps ≤ 3
unfolding group_part
part_below ps = grind arith
