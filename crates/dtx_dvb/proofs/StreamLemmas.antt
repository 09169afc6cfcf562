-- Streams that stand behind other packets.
use Rattle.std.proofs.Common.{◌≡◌, ℕ, ◌+◌, ◌*◌, ◌%◌, ◌<◌, List, [], ◌∷◌, ◌++◌, length, take, drop, get_or, bit_xor}
use Rattle.std.proofs.Common.{refl, sym, ap, ap₂, ◌∙◌, arith, lit<, zero-add}
use Rattle.std.proofs.lemmas.List.{append-nil, take_at}
use Rattle.std.proofs.lemmas.List.FromFn.{length-map-range_with_len, get_or-map-range_with_len}
use Rattle.std.proofs.lemmas.Nat.{mod_below}
use Rattle.dtx_lists.proofs.Enumerated.{pieces_append, length-pieces, piece_at}
use Rattle.dtx_laws.specs.Branches.{Branching, leaving_all, after_all}
use Rattle.dtx_laws.specs.Interleaving.{interleaved, interleaved_at}
use Rattle.dtx_laws.specs.Whitening.{whitened}
use Rattle.dtx_laws.proofs.WhiteningLemmas.{whitened_by}
use Rattle.dtx_laws.proofs.ChoiceLemmas.{codeword_length}
use Rattle.dtx_laws.proofs.PlacesLemmas.{leaving_append, after_append}
use Rattle.dtx_laws.proofs.InterleavingLemmas.{length-interleaved, get_or-interleaved, zeros_give}
use Rattle.dtx_dvb.specs.Randomizer.{randomizer_byte, randomizer_bytes}
use Rattle.dtx_dvb.proofs.RandomizerLemmas.{get_or-randomizer_bytes}
use Rattle.dtx_dvb.specs.Stream.{randomized, block_of, blocks_from, blocks, dvb, zero_branches, HasSent}

-- ---- packets

pub length-randomized : (k : ℕ) (packet : List ℕ) → length (randomized k packet) ≡ 188
unfolding randomized
length-randomized k packet = grind (arith, length-map-range_with_len)

pub get_or-randomized : (k : ℕ) (packet : List ℕ) (j : ℕ) → j < 188
    → get_or (randomized k packet) j 0 ≡ bit_xor (get_or packet j 0) (randomizer_byte (188 * (k % 8) + j))
unfolding randomized
get_or-randomized k packet j l =
    get_or-map-range_with_len (λ j. bit_xor (get_or packet j 0) (randomizer_byte (188 * (k % 8) + j))) 0 188 j j
    0 l (let e : 0 + j ≡ j = omega arith in e)

pub randomized_whitened : (k : ℕ) (packet : List ℕ) → length packet ≡ 188
    → randomized k packet ≡ whitened randomizer_bytes (188 * (k % 8)) packet
randomized_whitened k packet e =
    whitened_by randomizer_bytes (188 * (k % 8)) packet (randomized k packet) (length-randomized k packet ∙ sym e)
    (λ j l. let m : j < 188 = omega (arith, l, e) in
    get_or-randomized k packet j m
    ∙ ap (bit_xor (get_or packet j 0))
    (sym (get_or-randomizer_bytes (188 * (k % 8) + j) (omega (arith, m, mod_below k 8 (omega arith))))))

-- the randomizer begins anew with each group of eight
pub randomized_place : (j k : ℕ) (packet : List ℕ) → j % 8 ≡ k % 8 → randomized j packet ≡ randomized k packet
unfolding randomized
randomized_place j k packet e = grind arith

-- ---- blocks

pub length-block : (k : ℕ) (packet : List ℕ) → length (block_of k packet) ≡ 204
length-block k packet = codeword_length 204 188 (randomized k packet) ∙ ap (λ n. n + 16) (length-randomized k packet)

-- the block of packet p.0
abbrev block : ℕ × List ℕ → List ℕ
block p = block_of p.0 p.1

pub blocks_append : (k : ℕ) (ps qs : List (List ℕ))
    → blocks_from k (ps ++ qs) ≡ blocks_from k ps ++ blocks_from (k + length ps) qs
unfolding blocks_from
blocks_append k ps qs = pieces_append block k ps qs

pub blocks_one : (k : ℕ) (packet : List ℕ) → blocks_from k (packet ∷ []) ≡ block_of k packet
unfolding blocks_from
blocks_one k packet = append-nil (block_of k packet)

pub length-blocks : (k : ℕ) (ps : List (List ℕ)) → length (blocks_from k ps) ≡ 204 * length ps
unfolding blocks_from
length-blocks k ps = length-pieces block 204 k ps length-block

-- only the place in a group of eight counts
pub blocks_place : (j k : ℕ) (ps : List (List ℕ)) → j % 8 ≡ k % 8 → blocks_from j ps ≡ blocks_from k ps
unfolding blocks_from
blocks_place j k [] e = refl
blocks_place j k (p ∷ ps) e = ap₂ ◌++◌ (grind (arith, randomized_place)) (blocks_place (j + 1) (k + 1) ps (omega arith))

pub block_at : (s : ℕ) (ps : List (List ℕ)) (k : ℕ) → k < length ps
    → take 204 (drop (204 * k) (blocks_from s ps)) ≡ block_of (s + k) (get_or ps k [])
unfolding blocks_from
block_at s ps k l = piece_at block 204 s ps k [] length-block l

-- ---- as they are sent

-- the bytes that leave as the packets behind ps come
abbrev pub bytes_behind : List (List ℕ) → List (List ℕ) → List ℕ
bytes_behind ps qs = leaving_all 12 (after_all 12 zero_branches (blocks ps)) (blocks_from (length ps) qs)

blocks_more : (ps qs : List (List ℕ)) → blocks (ps ++ qs) ≡ blocks ps ++ blocks_from (length ps) qs
blocks_more ps qs = blocks_append 0 ps qs ∙ ap (λ k. blocks ps ++ blocks_from k qs) (zero-add (length ps))

pub dvb_append : (ps qs : List (List ℕ)) → dvb (ps ++ qs) ≡ dvb ps ++ bytes_behind ps qs
unfolding dvb
dvb_append ps qs = ap (interleaved 12 17) (blocks_more ps qs) ∙ sym (grind (arith, zeros_give))
    ∙ leaving_append 12 zero_branches (blocks ps) (blocks_from (length ps) qs)
    ∙ ap (λ xs. xs ++ bytes_behind ps qs) (zeros_give 12 17 (blocks ps) (lit< tt))

pub branches_append : (ps qs : List (List ℕ)) → after_all 12 zero_branches (blocks (ps ++ qs))
    ≡ after_all 12 (after_all 12 zero_branches (blocks ps)) (blocks_from (length ps) qs)
branches_append ps qs = grind (arith, blocks_more, after_append)

pub length-dvb : (ps : List (List ℕ)) → length (dvb ps) ≡ 204 * length ps
unfolding dvb
length-dvb ps = length-interleaved 12 17 (blocks ps) ∙ length-blocks 0 ps

pub get_or-dvb : (ps : List (List ℕ)) (n : ℕ) → n < length (dvb ps)
    → get_or (dvb ps) n 0 ≡ interleaved_at 12 17 (blocks ps) n
unfolding dvb
get_or-dvb ps n l = get_or-interleaved 12 17 (blocks ps) n (omega (arith, l, length-interleaved 12 17 (blocks ps)))

-- what is sent of the first packets is the begin of what is sent of all
pub dvb_front : (ps qs : List (List ℕ)) → take (204 * length ps) (dvb (ps ++ qs)) ≡ dvb ps
dvb_front ps qs = grind (arith, dvb_append, take_at, length-dvb)

-- ---- what is kept

pub sent_nothing : HasSent [] zero_branches
unfolding blocks_from after_all
sent_nothing = record { branches = refl }

-- packets more, at their place of a group of eight
pub sent_more : (ps qs : List (List ℕ)) (place : ℕ) (branches : Branching) → HasSent ps branches
    → place ≡ length ps % 8 → HasSent (ps ++ qs) (after_all 12 branches (blocks_from place qs))
sent_more ps qs place branches h e = grind (arith, blocks_place, branches_append)

pub bytes_more : (ps qs : List (List ℕ)) (place : ℕ) (branches : Branching) → HasSent ps branches
    → place ≡ length ps % 8 → dvb (ps ++ qs) ≡ dvb ps ++ leaving_all 12 branches (blocks_from place qs)
bytes_more ps qs place branches h e = grind (arith, dvb_append, blocks_place)
