-- A sync byte tells an exciter of marks alone.
use Rattle.std.proofs.Common.{◌≡◌, ℕ, ◌+◌, ◌-◌, ◌<◌, ◌≤◌, Some, List, [], ◌∷◌, ◌++◌, length, take, drop, map, set}
use Rattle.std.proofs.Common.{get_or, refl, sym, ap, ap₂, ◌∙◌, arith}
use Rattle.std.proofs.lemmas.List.{length-map, length-take-le, get_or-drop, get_or-map, drop-drop, drop-map}
use Rattle.std.proofs.lemmas.List.{take-map, take-take, take_all, map-set, set-get_or}
use Rattle.dtx_lists.proofs.Range.{map-range_same}
use Rattle.dtx_lists.proofs.RangeMoved.{flat_map-range_same}
use Rattle.dtx_laws.specs.Words.{codeword}
use Rattle.dtx_whiten.specs.Randomizer.{randomized}
use Rattle.dtx_packets.specs.Packets.{sync_of}
use Rattle.dtx_cadence.specs.Anchor.{anchor}
use Rattle.dtx_cadence.proofs.AnchoredLemmas.{missing_mark, stray_marks}
use Rattle.dtx_cadence.specs.Cadence.{AreAlike, AreAlikeWhereDue, HasMarksRound}
use Rattle.dtx_ops.specs.Reading.{reading, corrected, rules}
use Rattle.dtx_coder.specs.Stream.{coded_from, spread, whole_groups}
use Rattle.dtx_coder.specs.Along.{levels_since}
use Rattle.dtx_exciter.specs.Told.{told_of}
use Rattle.dtx_exciter.specs.Packets.{syncs, reads, readings, anchor_of, under, last_answer, bodies, AreSentAlike}
use Rattle.dtx_exciter.specs.Emission.{segments_since, sent_at, last_segments, emission}
use Rattle.dtx_exciter.specs.Log.{life_lines}
use Rattle.dtx_exciter.proofs.UnderLemmas.{length-syncs}

-- ---- one packet

-- the bytes behind the sync byte
byte_same : (p q : List ℕ) (j : ℕ) → drop 1 p ≡ drop 1 q → get_or p (1 + j) 0 ≡ get_or q (1 + j) 0
byte_same p q j h = sym (get_or-drop 1 p j 0) ∙ ap (λ x. get_or x j 0) h ∙ get_or-drop 1 q j 0

-- ---- packets

length_same : (xs ys : List (List ℕ)) → bodies xs ≡ bodies ys → length xs ≡ length ys
unfolding bodies
length_same xs ys h = sym (length-map xs (drop 1)) ∙ ap length h ∙ length-map ys (drop 1)

said_same : (xs ys : List (List ℕ)) → bodies xs ≡ bodies ys → readings xs ≡ readings ys
unfolding readings bodies reads reading rules corrected
said_same [] [] h = refl
said_same [] (y ∷ ys) h = cc
said_same (x ∷ xs) [] h = cc
said_same (x ∷ xs) (y ∷ ys) h = ap₂ ◌∷◌ (grind (arith, byte_same, drop-drop)) (said_same xs ys (ap (drop 1) h))

coded_same : (k : ℕ) (xs ys : List (List ℕ)) → bodies xs ≡ bodies ys → coded_from k xs ≡ coded_from k ys
unfolding coded_from bodies randomized
coded_same k [] [] h = refl
coded_same k [] (y ∷ ys) h = cc
coded_same k (x ∷ xs) [] h = cc
coded_same k (x ∷ xs) (y ∷ ys) h = ap₂ (λ a b. codeword 207 187 a ++ b) (grind (arith, map-range_same, byte_same))
    (coded_same (k + 1) xs ys (ap (drop 1) h))

-- ---- with their anchors

bodies_drop : (n : ℕ) (xs ys : List (List ℕ)) → bodies xs ≡ bodies ys → bodies (drop n xs) ≡ bodies (drop n ys)
unfolding bodies
bodies_drop n xs ys h = sym (drop-map (drop 1) n xs) ∙ ap (drop n) h ∙ drop-map (drop 1) n ys

anchors_same : (xs ys : List (List ℕ)) (n : ℕ) → AreSentAlike xs ys → n ≤ length xs
    → anchor (take n (syncs xs)) ≡ anchor (take n (syncs ys))
anchors_same xs ys n s l = s.anchors n (omega (arith, l, length-syncs xs))

-- the first packets are alike too
front_same : (xs ys : List (List ℕ)) (n : ℕ) → AreSentAlike xs ys → n ≤ length xs → AreSentAlike (take n xs) (take n ys)
unfolding bodies syncs
front_same xs ys n s l = record {
  bodies = (sym (take-map (drop 1) n xs) ∙ ap (take n) s.bodies ∙ take-map (drop 1) n ys);
  anchors = λ m k. grind (arith, length-syncs, length-take-le, front, anchors_same);
}
  where
    front : (m : ℕ) → m ≤ n → (zs : List (List ℕ)) → take m (syncs (take n zs)) ≡ take m (syncs zs)
    front m b zs = ap (take m) (sym (take-map sync_of n zs)) ∙ take-take m n (syncs zs) b

anchor_same : (xs ys : List (List ℕ)) → AreSentAlike xs ys → anchor (syncs xs) ≡ anchor (syncs ys)
anchor_same xs ys s = grind (arith, take_all, length-syncs, anchors_same, length_same)

pub segments_alike : (a d : ℕ) (xs ys : List (List ℕ)) → AreSentAlike xs ys
    → last_segments a d xs ≡ last_segments a d ys
unfolding last_segments under anchor_of sent_at segments_since levels_since whole_groups spread
segments_alike a d xs ys s = grind (arith, anchor_same, length_same, said_same, coded_same, bodies_drop)

pub answer_alike : (a d : ℕ) (xs ys : List (List ℕ)) → AreSentAlike xs ys → last_answer a d xs ≡ last_answer a d ys
unfolding last_answer told_of
answer_alike a d xs ys s = grind (arith, length-syncs, length_same, anchors_same, anchor_same, said_same)

-- ---- all that they give

pub answers_same : (a d n : ℕ) (xs ys : List (List ℕ)) → AreSentAlike xs ys → n ≤ length xs
    → last_answer a d (take n xs) ≡ last_answer a d (take n ys)
answers_same a d n xs ys s l = answer_alike a d (take n xs) (take n ys) (front_same xs ys n s l)

pub emission_same : (a d : ℕ) (xs ys : List (List ℕ)) → AreSentAlike xs ys → emission a d xs ≡ emission a d ys
unfolding emission
emission_same a d xs ys s = grind (arith, flat_map-range_same, segments_alike, front_same, length_same)

pub lines_same : (a d n : ℕ) (xs ys : List (List ℕ)) → AreSentAlike xs ys → life_lines a d n xs ≡ life_lines a d n ys
unfolding life_lines
lines_same a d n xs ys s =
    grind (arith, flat_map-range_same, length_same, front_same, emission_same, segments_alike, answer_alike)

-- ---- marks

pub one_missing : (packets : List (List ℕ)) (packet : List ℕ) (i j : ℕ) → anchor_of (take i packets) ≡ Some j
    → i < length packets → HasMarksRound (syncs packets) i → drop 1 packet ≡ drop 1 (get_or packets i [])
    → AreSentAlike packets (set packets i packet)
unfolding anchor_of syncs bodies
one_missing packets packet i j h l m e = record {
  bodies = sym (set-get_or (map (drop 1) packets) i []) ∙ ap (set (map (drop 1) packets) i)
      (get_or-map (drop 1) packets i [] [] (grind (arith, length-map)) ∙ sym e)
      ∙ sym (map-set (drop 1) packets i packet);
  anchors = λ n b.
      missing_mark (map sync_of packets) i j (sync_of packet) (ap anchor (take-map sync_of i packets) ∙ h)
      (grind (arith, length-map)) m n b ∙ ap (λ x. anchor (take n x)) (sym (map-set sync_of packets i packet));
}

pub stray : (xs ys : List (List ℕ)) (j : ℕ) → bodies xs ≡ bodies ys → anchor_of xs ≡ Some j
    → AreAlike (syncs xs) (syncs ys) (j + 1) → AreAlikeWhereDue (syncs xs) (syncs ys) j → AreSentAlike xs ys
unfolding anchor_of
stray xs ys j h a f g = grind (arith, stray_marks, length-syncs, length_same)
