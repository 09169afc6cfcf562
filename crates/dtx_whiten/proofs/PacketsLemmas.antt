-- Randomized packets as whitened data.
use Rattle.std.proofs.Common.{◌≡◌, ℕ, ◌+◌, ◌*◌, ◌%◌, ◌<◌, List, [], length, drop, get_or, bit_xor, sym, ap, ap₂, ◌∙◌}
use Rattle.std.proofs.Common.{arith, length-drop}
use Rattle.std.specs.List.{enumerate_from}
use Rattle.std.proofs.lemmas.List.{get_or-drop, get_or-map}
use Rattle.std.proofs.lemmas.List.FromFn.{length-map-range_with_len, get_or-map-range_with_len, get_or-enumerate_from}
use Rattle.std.proofs.lemmas.List.FromFn.{length-enumerate_from}
use Rattle.std.proofs.lemmas.Nat.{mod_below}
use Rattle.dtx_laws.specs.Whitening.{whitened}
use Rattle.dtx_laws.proofs.WhiteningLemmas.{whitened_by}
use Rattle.dtx_whiten.specs.Randomizer.{randomizer_byte, randomizer_bytes, randomized, randomized_stream}
use Rattle.dtx_whiten.proofs.BytesLemmas.{get_or-randomizer_bytes}

pub length-randomized : (k : ℕ) (packet : List ℕ) → length (randomized k packet) ≡ 187
unfolding randomized
length-randomized k packet =
    length-map-range_with_len (λ j. bit_xor (get_or packet (1 + j) 0) (randomizer_byte (187 * (k % 312) + j))) 0 187

get_or-randomized : (k : ℕ) (packet : List ℕ) (j : ℕ) → j < 187
    → get_or (randomized k packet) j 0 ≡ bit_xor (get_or packet (1 + j) 0) (randomizer_byte (187 * (k % 312) + j))
unfolding randomized
get_or-randomized k packet j l =
    get_or-map-range_with_len (λ j. bit_xor (get_or packet (1 + j) 0) (randomizer_byte (187 * (k % 312) + j))) 0 187 j j
    0 l (let e : 0 + j ≡ j = omega arith in e)

pub randomized_whitened : (k : ℕ) (packet : List ℕ) → length packet ≡ 1 + 187
    → randomized k packet ≡ whitened randomizer_bytes (187 * (k % 312)) (drop 1 packet)
randomized_whitened k packet e =
    whitened_by randomizer_bytes (187 * (k % 312)) (drop 1 packet) (randomized k packet) (length-randomized k packet
    ∙ sym long)
    (λ j l. let m : j < 187 = omega (arith, l, long) in
    get_or-randomized k packet j m
    ∙ ap₂ bit_xor (sym (get_or-drop 1 packet j 0))
    (sym (get_or-randomizer_bytes (187 * (k % 312) + j) (omega (arith, m, mod_below k 312 (omega arith))))))
  where
    long : length (drop 1 packet) ≡ 187
    long = omega (arith, e, length-drop 1 packet)

pub get_or-randomized_stream : (stream : List (List ℕ)) (k : ℕ) → k < length stream
    → get_or (randomized_stream stream) k [] ≡ randomized k (get_or stream k [])
unfolding randomized_stream
get_or-randomized_stream stream k l =
    get_or-map (λ (p : ℕ × List ℕ). randomized p.0 p.1) (enumerate_from 0 stream) k (
      0,
      [],
    ) [] (omega (arith, l, length-enumerate_from 0 stream))
    ∙ ap (λ (p : ℕ × List ℕ). randomized p.0 p.1) (get_or-enumerate_from 0 stream k (0, []) l)
    ∙ ap (λ i. randomized i (get_or stream k [])) (let e : 0 + k ≡ k = omega arith in e)
