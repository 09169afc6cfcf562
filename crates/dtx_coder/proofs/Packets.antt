-- The codewords of packets, one after another.
use borrow.Rule.Slice.PartMut.{put_mid}
use Rattle.std.proofs.Common.{◌≡◌, ℕ, ◌+◌, ◌*◌, ◌/◌, ◌%◌, ◌<◌, ◌≤◌, List, [], ◌∷◌, ◌++◌, length, map, get_or, take}
use Rattle.std.proofs.Common.{drop, refl, lit<, sym, ap, ap₂, ◌∙◌, arith}
use Rattle.std.specs.List.{concat}
use Rattle.std.proofs.Math.Seq.{take-add}
use Rattle.std.proofs.lemmas.List.{get_or-map, length-drop, length-map, length-take-le}
use Rattle.dtx_laws.specs.Branches.{spreading, after_all}
use Rattle.dtx_laws.specs.Whitening.{whitened}
use Rattle.dtx_laws.specs.Words.{codeword}
use Rattle.dtx_laws.proofs.InterleavingLemmas.{HasWidths-all, HasWidths-zeroed}
use Rattle.dtx_outer.specs.Outer.{coded_as, codewords, Held}
use Rattle.dtx_outer.proofs.CodingLemmas.{four_made, written_behind}
use Rattle.dtx_whiten.specs.Randomizer.{randomizer_bytes, randomized}
use Rattle.dtx_whiten.proofs.BytesLemmas.{length-randomizer_bytes}
use Rattle.dtx_whiten.proofs.PacketsLemmas.{randomized_whitened}
use Rattle.dtx_coder.specs.Stream.{coded_from}
use Rattle.dtx_coder.specs.Groups.{IsAtsc, zero_branches}
use Rattle.dtx_coder.proofs.BytesLemmas.{coded_append, length-coded}

-- what the outer coding makes of a packet's data
data_coded : (p : ℕ) (white head packet : List ℕ) → white ≡ randomizer_bytes → head ≡ drop 1 packet
    → length packet ≡ 188 → coded_as 207 187 white p head ≡ codeword 207 187 (randomized p packet)
data_coded p white head packet w h e =
    ap₂ (λ (x y : List ℕ). codeword 207 187 (whitened x (187 * (p % (length x / 187))) y)) w h
    ∙ ap (λ i. codeword 207 187 (whitened randomizer_bytes (187 * (p % (i / 187))) (drop 1 packet)))
    length-randomizer_bytes
    ∙ ap (codeword 207 187) (sym (randomized_whitened p packet e))

-- the data of a packet, which stand behind its sync byte
abbrev pub AreData : (head packet : List ℕ) → Type 0
AreData head packet = record { behind : head ≡ drop 1 packet; whole : length packet ≡ 188 }

-- the codewords of four packets' data are those of the packets
pub four_coded : (first : ℕ) (white : List ℕ) (ps : List (List ℕ)) (one two three four : List ℕ)
    → white ≡ randomizer_bytes → length ps ≡ 4 → AreData one (get_or ps 0 []) → AreData two (get_or ps 1 [])
    → AreData three (get_or ps 2 []) → AreData four (get_or ps 3 [])
    → concat (codewords 207 187 white first (one ∷ two ∷ three ∷ four ∷ [])) ≡ coded_from first ps
unfolding coded_from
four_coded first white ps one two three four w l d1 d2 d3 d4 =
    four_made 207 187 white first one two three four ps (λ p packet. codeword 207 187 (randomized p packet)) l
    (each 0 one d1) (each 1 two d2) (each 2 three d3) (each 3 four d4)
  where
    each : (i : ℕ) (head : List ℕ) → AreData head (get_or ps i []) → (p : ℕ)
        → coded_as 207 187 white p head ≡ codeword 207 187 (randomized p (get_or ps i []))
    each i head a p = data_coded p white head (get_or ps i []) w a.behind a.whole

-- the same of packets that are seen as lists by f
pub packets_coded : {A : Type 0} (f : A → List ℕ) (first : ℕ) (white : List ℕ) (ps : List A) (d : A)
    (one two three four : List ℕ) → white ≡ randomizer_bytes → length ps ≡ 4
    → AreData one (f (get_or ps 0 d)) → AreData two (f (get_or ps 1 d))
    → AreData three (f (get_or ps 2 d)) → AreData four (f (get_or ps 3 d))
    → concat (codewords 207 187 white first (one ∷ two ∷ three ∷ four ∷ [])) ≡ coded_from first (map f ps)
packets_coded f first white ps d one two three four w l d1 d2 d3 d4 = grind (arith, four_coded, length-map, get_or-map)

pub words_none : (first : ℕ) → [] ≡ coded_from first []
unfolding coded_from
words_none first = refl

-- more packets, in fours: those of group i are written, at a piece of that length, behind the ones before
pub words_on : (first i size : ℕ) (ps : List (List ℕ)) (words group : List ℕ) → 4 * i + 4 ≤ length ps → size ≡ 828
    → length words ≡ 207 * length ps → take (828 * i) words ≡ coded_from first (take (4 * i) ps)
    → group ≡ coded_from (first + 4 * i) (take 4 (drop (4 * i) ps))
    → take (828 * (i + 1)) (put_mid (828 * i) size words group) ≡ coded_from first (take (4 * (i + 1)) ps)
words_on first i size ps words group within e long before is =
    let long_group : length group ≡ 828 = ap length is ∙ length-coded (first + 4 * i) (take 4 (drop (4 * i) ps))
    ∙ ap (λ (n : ℕ). 207 * n) (length-take-le 4 (drop (4 * i) ps) (omega (arith, length-drop (4 * i) ps, within))) in
    ap₂ (λ m n. take n (put_mid (828 * i) m words group)) e (let f : 828 * (i + 1) ≡ 828 * i + 828 = omega arith in f)
    ∙ written_behind (828 * i) 828 words group (omega (arith, long, within)) long_group ∙ ap₂ ◌++◌ before is
    ∙ ap (λ n. coded_from first (take (4 * i) ps) ++ coded_from (first + n) (take 4 (drop (4 * i) ps)))
    (sym (grind (arith, length-take-le))) ∙ sym (coded_append first (take (4 * i) ps) (take 4 (drop (4 * i) ps)))
    ∙ ap (coded_from first) (sym (take-add (4 * i) 4 ps)
    ∙ ap (λ n. take n ps) (let e : 4 * i + 4 ≡ 4 * (i + 1) = omega arith in e))

-- the outer coding behind some codewords
pub atsc_new : IsAtsc (record { white = randomizer_bytes; branches = zero_branches })
atsc_new = record { white = refl; widths = HasWidths-zeroed 52 (spreading 4) (lit< tt) }

pub atsc_after : (outer : Held) (x : List ℕ) → IsAtsc outer
    → IsAtsc (record outer { branches = after_all 52 outer.branches x })
atsc_after outer x a = record { white = a.white; widths = HasWidths-all 52 (spreading 4) outer.branches x a.widths }
