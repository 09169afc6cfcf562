-- The blocks of packets, one after another, as the outer coding makes them.
use borrow.Rule.Slice.PartMut.{put_mid}
use Rattle.std.proofs.Common.{◌≡◌, ℕ, ◌+◌, ◌*◌, ◌<◌, ◌≤◌, List, [], ◌∷◌, ◌++◌, length, take, drop, get_or, refl, lit<}
use Rattle.std.proofs.Common.{sym, ap, ap₂, ◌∙◌, arith}
use Rattle.std.specs.List.{concat}
use Rattle.std.proofs.Math.Seq.{take-add}
use Rattle.std.proofs.lemmas.List.{length-drop, length-take-le}
use Rattle.dtx_outer.specs.Outer.{coded_as, codewords, coded}
use Rattle.dtx_outer.proofs.CodingLemmas.{four_made, written_behind}
use Rattle.dtx_dvb.specs.Randomizer.{randomizer_bytes}
use Rattle.dtx_dvb.proofs.RandomizerLemmas.{length-randomizer_bytes}
use Rattle.dtx_dvb.specs.Stream.{block_of, blocks_from}
use Rattle.dtx_dvb.proofs.StreamLemmas.{randomized_whitened, blocks_append, length-blocks}

pub coded_is : (place : ℕ) (white packet : List ℕ) → white ≡ randomizer_bytes → length packet ≡ 188 → place < 8
    → coded 204 188 white (188 * place) packet ≡ block_of place packet
coded_is place white packet w e l = grind (arith, randomized_whitened)

-- by its number in a stream
coded_as_is : (k : ℕ) (white packet : List ℕ) → white ≡ randomizer_bytes → length packet ≡ 188
    → coded_as 204 188 white k packet ≡ block_of k packet
coded_as_is k white packet w e = rw (w, length-randomizer_bytes, ← randomized_whitened k packet e)

-- the codewords of four packets are their blocks
pub blocks_coded : (place : ℕ) (white : List ℕ) (packets : List (List ℕ)) → white ≡ randomizer_bytes
    → length packets ≡ 4 → ((p : ℕ) → p < 4 → length (get_or packets p []) ≡ 188)
    → concat (codewords 204 188 white place (get_or packets 0 [] ∷ get_or packets 1 [] ∷ get_or packets 2 []
    ∷ get_or packets 3 [] ∷ [])) ≡ blocks_from place packets
unfolding blocks_from
blocks_coded place white packets w four whole =
    four_made 204 188 white place (get_or packets 0 []) (get_or packets 1 []) (get_or packets 2 [])
    (get_or packets 3 []) packets block_of four (each 0 (lit< tt)) (each 1 (lit< tt)) (each 2 (lit< tt))
    (each 3 (lit< tt))
  where
    each : (i : ℕ) → i < 4 → (k : ℕ) → coded_as 204 188 white k (get_or packets i []) ≡ block_of k (get_or packets i [])
    each i m k = coded_as_is k white (get_or packets i []) w (whole i m)

pub words_none : (place : ℕ) → [] ≡ blocks_from place []
unfolding blocks_from
words_none place = refl

-- more packets, in fours: the blocks of four are written, at a piece of that length, behind those before
pub words_on : (place i size : ℕ) (ps : List (List ℕ)) (words four : List ℕ) → 4 * i + 4 ≤ length ps → size ≡ 816
    → length words ≡ 204 * length ps → take (816 * i) words ≡ blocks_from place (take (4 * i) ps)
    → four ≡ blocks_from (place + 4 * i) (take 4 (drop (4 * i) ps))
    → take (816 * (i + 1)) (put_mid (816 * i) size words four) ≡ blocks_from place (take (4 * (i + 1)) ps)
words_on place i size ps words four within e long before is =
    let long_four : length four ≡ 816 = ap length is ∙ length-blocks (place + 4 * i) (take 4 (drop (4 * i) ps))
    ∙ ap (λ (n : ℕ). 204 * n) (length-take-le 4 (drop (4 * i) ps) (omega (arith, length-drop (4 * i) ps, within))) in
    ap₂ (λ m n. take n (put_mid (816 * i) m words four)) e (let f : 816 * (i + 1) ≡ 816 * i + 816 = omega arith in f)
    ∙ written_behind (816 * i) 816 words four (omega (arith, long, within)) long_four ∙ ap₂ ◌++◌ before is
    ∙ ap (λ n. blocks_from place (take (4 * i) ps) ++ blocks_from (place + n) (take 4 (drop (4 * i) ps)))
    (sym (grind (arith, length-take-le))) ∙ sym (blocks_append place (take (4 * i) ps) (take 4 (drop (4 * i) ps)))
    ∙ ap (blocks_from place) (sym (take-add (4 * i) 4 ps)
    ∙ ap (λ n. take n ps) (let e : 4 * i + 4 ≡ 4 * (i + 1) = omega arith in e))
