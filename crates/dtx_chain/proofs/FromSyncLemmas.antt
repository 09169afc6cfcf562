-- The bytes of undamaged segments in a row that begin with one of a stream's field syncs, and their words.
use Rattle.std.proofs.Common.{◌≡◌, ℕ, ℤ, zero, suc, ◌+◌, ◌-◌, ◌*◌, ◌/◌, ◌%◌, ◌<◌, ◌≤◌, nat_le, List, [], ◌∷◌, ◌++◌}
use Rattle.std.proofs.Common.{length, map, take, drop, get_or, refl, sym, ap, ap₂, ◌∙◌, subst, arith}
use Rattle.std.proofs.lemmas.List.{drop-drop, drop-take, take-append-drop, length-drop, length-take, length-take-le}
use Rattle.std.proofs.lemmas.List.{get_or-take, get_or-drop, get_or-append_right}
use Rattle.std.proofs.lemmas.List.FromFn.{length-map-range_with_len}
use Rattle.std.proofs.lemmas.Bool.{cond-false, ne_eqb}
use Rattle.dtx_laws.proofs.WordsLemmas.{distance_self}
use Rattle.dtx_trellis.specs.Trellis.{group_place}
use Rattle.dtx_slice.specs.Slicing.{sliced, sliced_data, sliced_last}
use Rattle.dtx_slice.specs.Unrolled.{bytes_back, precoder_bit, level_groups, precoder_bits_of, precoder_bits_in}
use Rattle.dtx_slice.specs.Unrolled.{precoder_bits_after}
use Rattle.dtx_slice.proofs.InverseLemmas.{bytes_come_back}
use Rattle.dtx_slice.proofs.JoinsLemmas.{bytes_append, precoder_bits_repeated}
use Rattle.dtx_frame.proofs.SlicesLemmas.{end_back, last_back}
use Rattle.dtx_outer.specs.Inner.{word_at, IsComplete}
use Rattle.dtx_outer.proofs.WordsLemmas.{length-word, get_or-word, word_by, word_stays}
use Rattle.dtx_coder.specs.Stream.{whole_groups, zero_states, levels, segment, last_of, last_before, a53}
use Rattle.dtx_coder.proofs.BytesLemmas.{length-whole}
use Rattle.dtx_coder.proofs.LevelsLemmas.{length-levels}
use Rattle.dtx_coder.proofs.SegmentsLemmas.{segment_is}
use Rattle.dtx_coder.proofs.CountsLemmas.{length-a53}
use Rattle.dtx_receiver.specs.Bytes.{data_count, data_at, groups_of, levels_from, levels_in, first_bits, bytes_in}
use Rattle.dtx_receiver.proofs.SegmentsLemmas.{levels_parts}
use Rattle.dtx_lists.proofs.RangeMoved.{flat_map-range_same}
use Rattle.dtx_chain.specs.Damage.{ArePackets, codeword_at, IsNear}
use Rattle.dtx_chain.proofs.PlacesLemmas.{sync_at, data_at_place}
use Rattle.dtx_chain.proofs.LevelsLemmas.{slices_front, level_small, segment_back, zero_bits, nothing_before}
use Rattle.dtx_chain.proofs.WordsLemmas.{whole_small, word_is}
use Rattle.dtx_chain.proofs.AllBackLemmas.{data_within, data_before, data_all}

-- The run stands in the stream, from its field sync before field q on.
pub record IsThere (ps : List (List ℕ)) (q : ℕ) (run : List (List ℤ)) : Type 0 where
  pub some : 0 < length run
  pub within : 313 * q + length run ≤ length (a53 ps)
  pub same : (i : ℕ) → i < length run → get_or run i [] ≡ get_or (a53 ps) (313 * q + i) []

-- ---- its levels

group_within : (q n l u g : ℕ) → 313 * q + n ≤ l → l ≡ 4 * u + (u + 77) / 78 → g ≡ (n - (n + 312) / 313) / 4
    → 78 * q + g ≤ u
group_within q n l u g a e h = grind (arith, data_before, data_all)

groups_within : (ps : List (List ℕ)) (q : ℕ) (run : List (List ℤ)) → IsThere ps q run
    → 78 * q + groups_of run ≤ length ps / 4
unfolding groups_of data_count
groups_within ps q run h = grind (arith, group_within, length-a53)

moved_on : (q d : ℕ) → 313 * q + (d + d / 312 + 1) ≡ 312 * q + d + (312 * q + d) / 312 + 1
moved_on q d = omega arith

segment_in : (run : List (List ℤ)) (d : ℕ) → d < 0 + 4 * groups_of run → d + d / 312 + 1 < length run
unfolding groups_of data_count
segment_in run d l = data_within (length run) d l

data_there : (ps : List (List ℕ)) (q : ℕ) (run : List (List ℤ)) → IsThere ps q run → (d : ℕ)
    → d < 0 + 4 * groups_of run → data_at run d ≡ segment (levels ps) (312 * q + d)
unfolding data_at
data_there ps q run h d l = h.same (d + d / 312 + 1) (segment_in run d l)
    ∙ ap (λ i. get_or (a53 ps) i []) (moved_on q d)
    ∙ data_at_place ps (312 * q + d) (omega (arith, l, groups_within ps q run h))

levels_there : (ps : List (List ℕ)) (q : ℕ) (run : List (List ℤ)) → IsThere ps q run
    → levels_in run ≡ take (828 * (4 * groups_of run)) (drop (828 * (312 * q)) (levels ps))
unfolding levels_in levels_from
levels_there ps q run h = flat_map-range_same (λ d. sliced_data (data_at run d))
    (λ d. take 828 (drop (828 * d) (drop (828 * (312 * q)) (levels ps)))) 0 (4 * groups_of run)
    (λ d a l. ap sliced_data (data_there ps q run h d l)
    ∙ segment_back ps (312 * q + d) (omega (arith, l, groups_within ps q run h)) ∙ ap (take 828) (there d))
    ∙ slices_front (drop (828 * (312 * q)) (levels ps)) (4 * groups_of run)
  where
    there : (d : ℕ) → drop (828 * (312 * q + d)) (levels ps) ≡ drop (828 * d) (drop (828 * (312 * q)) (levels ps))
    there d = grind (arith, drop-drop)

-- ---- the precoder bits before it

-- the levels before group u
levels_to : List (List ℕ) → ℕ → List ℕ
levels_to ps u = take (3312 * u) (levels ps)

length-levels_to : (ps : List (List ℕ)) (u : ℕ) → u ≤ length ps / 4 → length (levels_to ps u) ≡ 3312 * u
unfolding levels_to
length-levels_to ps u l = length-take-le (3312 * u) (levels ps) (omega (arith, l, length-levels ps))

none_yet : precoder_bits_after 0 (precoder_bits_in zero_states) [] ≡ precoder_bits_in zero_states
unfolding precoder_bits_after precoder_bit level_groups precoder_bits_in zero_states
none_yet = refl

slice_small : (ps : List (List ℕ)) (a : ℕ) → 828 * a + 828 ≤ length (levels ps) → (i : ℕ) → i < 828
    → get_or (take 828 (drop (828 * a) (levels ps))) i 0 < 8
slice_small ps a l i m = subst (λ (x : ℕ). x < 8) (sym (get_or-take 828 (drop (828 * a) (levels ps)) i 0 m
    ∙ get_or-drop (828 * a) (levels ps) i 0)) (level_small ps (828 * a + i) (omega (arith, m, l)))

-- those that its field sync repeats
last_levels : (ps : List (List ℕ)) (u : ℕ) → 0 < u → u ≤ length ps / 4
    → sliced_last (segment (levels ps) (4 * u - 1)) ≡ drop (3312 * u - 12) (levels_to ps u)
unfolding levels_to
last_levels ps u s l =
    let d : ℕ = 4 * u - 1 in
    let all : 828 * d + 828 ≡ 3312 * u = omega (arith, s) in
    let from : 828 * d + 816 ≡ 3312 * u - 12 = omega (arith, s) in
    let within : 828 * d + 828 ≤ length (levels ps) = omega (arith, all, l, length-levels ps) in
    let long : length (take 828 (drop (828 * d) (levels ps))) ≡ 828 =
    length-take-le 828 (drop (828 * d) (levels ps)) (omega (arith, within, length-drop (828 * d) (levels ps))) in
    ap sliced_last (segment_is (levels ps) d)
    ∙ end_back (take 828 (drop (828 * d) (levels ps))) (λ i m. slice_small ps d within i (omega (arith, m, long)))
    ∙ ap (drop 816) (sym (drop-take (828 * d) 828 (levels ps)) ∙ ap (λ n. drop (828 * d) (take n (levels ps))) all)
    ∙ drop-drop 816 (828 * d) (take (3312 * u) (levels ps)) ∙ ap (λ n. drop n (take (3312 * u) (levels ps))) from

last_is : (ps : List (List ℕ)) (u : ℕ) → 0 < u → last_before ps u ≡ last_of (segment (levels ps) (4 * u - 1))
unfolding last_before
last_is ps u s = grind (arith, cond-false, ne_eqb)

sliced_end : (x : List ℤ) → map sliced (last_of x) ≡ sliced_last x
unfolding last_of sliced_last
sliced_end x = refl

field_turns : (q : ℕ) → group_place 0 (78 * q) ≡ 0
unfolding group_place
field_turns q = omega arith

last_there : (ps : List (List ℕ)) (q : ℕ) → 78 * q ≤ length ps / 4
    → precoder_bits_of (map sliced (last_before ps (78 * q)))
    ≡ precoder_bits_after 0 (precoder_bits_in zero_states) (levels_to ps (78 * q))
unfolding levels_to
last_there ps zero l = ap (λ x. precoder_bits_of (map sliced x)) (nothing_before ps) ∙ zero_bits ∙ sym none_yet
last_there ps (suc q) l =
    grind (arith, last_is, sliced_end, last_levels, precoder_bits_repeated, levels_to, length-levels_to, field_turns)

group_starts : (q n l u : ℕ) → 0 < n → 313 * q + n ≤ l → l ≡ 4 * u + (u + 77) / 78 → 78 * q < u
group_starts q n l u s a e = omega (arith, s, a, e)

first_there : (ps : List (List ℕ)) (q : ℕ) (run : List (List ℤ)) → IsThere ps q run
    → first_bits run ≡ precoder_bits_after 0 (precoder_bits_in zero_states) (levels_to ps (78 * q))
unfolding first_bits
first_there ps q run h =
    let there : 313 * q + 0 ≡ 4 * (78 * q) + (78 * q + 77) / 78 = omega arith in
    let some : 78 * q < length ps / 4 = grind (arith, group_starts, length-a53) in
    ap (λ s. precoder_bits_of (sliced_last s)) (grind (arith, sync_at))
    ∙ ap precoder_bits_of (last_back (nat_le 312 (4 * (78 * q) % 624)) (last_before ps (78 * q)))
    ∙ last_there ps q (omega (arith, some))

-- ---- its bytes

-- They stand among the stream's.
record AreThere (ps : List (List ℕ)) (q : ℕ) (run : List (List ℤ)) : Type 0 where
  pub before : List ℕ
  pub after : List ℕ
  pub all : whole_groups ps ≡ before ++ (bytes_in run ++ after)
  pub long : length before ≡ 828 * (78 * q)
  pub own : length (bytes_in run) ≡ 828 * groups_of run

whole_is : (ps : List (List ℕ)) → ArePackets ps → bytes_back 0 (precoder_bits_in zero_states) (levels ps)
    ≡ whole_groups ps
unfolding levels
whole_is ps h = bytes_come_back 0 (length ps / 4) zero_states (whole_groups ps) (length-whole ps) (whole_small ps h)

length-back : (s u : ℕ) (precoder_bits zs : List ℕ) → length zs ≡ 3312 * u
    → length (bytes_back s precoder_bits zs) ≡ 828 * u
unfolding bytes_back level_groups
length-back s u precoder_bits zs e = grind (arith, length-map-range_with_len)

bytes_there : (ps : List (List ℕ)) (q : ℕ) (run : List (List ℤ)) → ArePackets ps → IsThere ps q run → AreThere ps q run
unfolding bytes_in levels_to
bytes_there ps q run p h =
    let u : ℕ = 78 * q in
    record {
      before = bytes_back 0 none front;
      after = bytes_back (group_place 0 (groups_of run)) (precoder_bits_after 0 precoder_bits own) rest;
      all = sym (whole_is ps p) ∙ ap (bytes_back 0 none) parts
          ∙ bytes_append 0 u none front (own ++ rest) (length-levels_to ps u begun)
          ∙ ap (λ (s : ℕ). bytes_back 0 none front ++ bytes_back s precoder_bits (own ++ rest)) (field_turns q)
          ∙ ap (λ x. bytes_back 0 none front ++ x) (bytes_append 0 (groups_of run) precoder_bits own rest own_long
          ∙ ap₂ (λ x y. bytes_back 0 x y ++ bytes_back (group_place 0 (groups_of run))
          (precoder_bits_after 0 precoder_bits own) rest) (sym (first_there ps q run h)) (sym own_is));
      long = length-back 0 u none front (length-levels_to ps u begun);
      own = length-back 0 (groups_of run) (first_bits run) (levels_in run) (ap length own_is ∙ own_long);
    }
  where
    none : List ℕ
    none = precoder_bits_in zero_states

    front : List ℕ
    front = levels_to ps (78 * q)

    own : List ℕ
    own = take (3312 * groups_of run) (drop (3312 * (78 * q)) (levels ps))

    rest : List ℕ
    rest = drop (3312 * groups_of run) (drop (3312 * (78 * q)) (levels ps))

    precoder_bits : List ℕ
    precoder_bits = precoder_bits_after 0 (precoder_bits_in zero_states) (levels_to ps (78 * q))

    begun : 78 * q ≤ length ps / 4
    begun = omega (arith, groups_within ps q run h)

    parts : levels ps ≡ levels_to ps (78 * q) ++ (take (3312 * groups_of run) (drop (3312 * (78 * q)) (levels ps))
        ++ drop (3312 * groups_of run) (drop (3312 * (78 * q)) (levels ps)))
    parts = grind (arith, take-append-drop)

    own_is : levels_in run ≡ take (3312 * groups_of run) (drop (3312 * (78 * q)) (levels ps))
    own_is =
        let a : 828 * (4 * groups_of run) ≡ 3312 * groups_of run = omega arith in
        let b : 828 * (312 * q) ≡ 3312 * (78 * q) = omega arith in
        levels_there ps q run h ∙ ap₂ (λ (m n : ℕ). take m (drop n (levels ps))) a b

    own_long : length (take (3312 * groups_of run) (drop (3312 * (78 * q)) (levels ps))) ≡ 3312 * groups_of run
    own_long = length-take-le (3312 * groups_of run) (drop (3312 * (78 * q)) (levels ps))
        (omega (arith, groups_within ps q run h, length-levels ps, length-drop (3312 * (78 * q)) (levels ps)))

-- ---- its words

-- a word of bytes behind whole fields
word_moved : (q j : ℕ) (x y : List ℕ) → length x ≡ 828 * (78 * q)
    → word_at 207 52 4 (x ++ y) (312 * q + j) ≡ word_at 207 52 4 y j
word_moved q j x y e = word_by 207 52 4 y j (word_at 207 52 4 (x ++ y) (312 * q + j)) (grind (arith, length-word))
    (λ i l. grind (arith, get_or-word, get_or-append_right))

complete_moved : (q j a b : ℕ) → IsComplete 207 52 4 (828 * a) j → 78 * q + a ≤ b
    → IsComplete 207 52 4 (828 * b) (312 * q + j)
complete_moved q j a b c l = λ i m. let h = c i m in omega (arith, h, l)

-- a word whose bytes are all there is its packet's codeword
pub own_word : (ps : List (List ℕ)) (q j : ℕ) (run : List (List ℤ)) → ArePackets ps → IsThere ps q run
    → IsComplete 207 52 4 (828 * groups_of run) j → word_at 207 52 4 (bytes_in run) j ≡ codeword_at ps (312 * q + j)
own_word ps q j run p h c =
    let t : AreThere ps q run = bytes_there ps q run p h in
    let complete : IsComplete 207 52 4 (828 * (length ps / 4)) (312 * q + j) =
    complete_moved q j (groups_of run) (length ps / 4) c (groups_within ps q run h) in
    let within : 312 * q + j < length ps = let l = complete 0 (omega arith) in omega (arith, l) in
    let same : word_at 207 52 4 (bytes_in run) j ≡ word_at 207 52 4 (whole_groups ps) (312 * q + j) =
    grind (arith, word_stays, word_moved) in
    same ∙ word_is ps (312 * q + j) within complete

pub word_there : (ps : List (List ℕ)) (q j : ℕ) (run : List (List ℤ)) → ArePackets ps → IsThere ps q run
    → IsComplete 207 52 4 (828 * groups_of run) j → IsNear ps (312 * q + j) (word_at 207 52 4 (bytes_in run) j)
word_there ps q j run p h c = grind (arith, own_word, distance_self)

-- ---- a run of which a front stands there

length-levels_there : (ps : List (List ℕ)) (q : ℕ) (run : List (List ℤ)) → IsThere ps q run
    → length (levels_in run) ≡ 3312 * groups_of run
length-levels_there ps q run h = ap length (levels_there ps q run h)
    ∙ length-take-le (828 * (4 * groups_of run)) (drop (828 * (312 * q)) (levels ps))
    (omega (arith, groups_within ps q run h, length-levels ps, length-drop (828 * (312 * q)) (levels ps)))
    ∙ groups (groups_of run)
  where
    groups : (g : ℕ) → 828 * (4 * g) ≡ 3312 * g
    groups g = omega arith

pub length-bytes_there : (ps : List (List ℕ)) (q : ℕ) (run : List (List ℤ)) → ArePackets ps → IsThere ps q run
    → length (bytes_in run) ≡ 828 * groups_of run
length-bytes_there ps q run p h = (bytes_there ps q run p h).own

groups_front : (run : List (List ℤ)) (m : ℕ) → groups_of (take m run) ≤ groups_of run
unfolding groups_of data_count
groups_front run m = grind (arith, length-take)

own_levels : (run : List (List ℤ)) (m : ℕ)
    → levels_from (take m run) 0 (4 * groups_of (take m run)) ≡ levels_from run 0 (4 * groups_of (take m run))
unfolding levels_from data_at
own_levels run m = flat_map-range_same (λ d. sliced_data (get_or (take m run) (d + d / 312 + 1) []))
    (λ d. sliced_data (get_or run (d + d / 312 + 1) [])) 0 (4 * groups_of (take m run))
    (λ d a l. ap sliced_data (get_or-take m run (d + d / 312 + 1) []
    (omega (arith, segment_in (take m run) d l, length-take m run))))

-- the levels of the front come first
levels_front : (run : List (List ℤ)) (m : ℕ) → let g : ℕ = groups_of (take m run) in
    levels_in run ≡ levels_in (take m run) ++ levels_from run (0 + 4 * g) (4 * (groups_of run - g))
unfolding levels_in
levels_front run m =
    let g : ℕ = groups_of (take m run) in
    ap (levels_from run 0) (omega (arith, groups_front run m)) ∙ levels_parts run 0 (4 * g) (4 * (groups_of run - g))
    ∙ ap (λ (x : List ℕ). x ++ levels_from run (0 + 4 * g) (4 * (groups_of run - g))) (sym (own_levels run m))

-- and so do its bytes
bytes_front : (ps : List (List ℕ)) (q m : ℕ) (run : List (List ℤ)) → IsThere ps q (take m run)
    → (more : List ℕ) × (bytes_in run ≡ bytes_in (take m run) ++ more)
unfolding bytes_in first_bits
bytes_front ps q m run h =
    let g : ℕ = groups_of (take m run) in
    let first : get_or (take m run) 0 [] ≡ get_or run 0 [] = get_or-take m run 0 [] (grind (arith, length-take)) in
    let precoder_bits : List ℕ = precoder_bits_of (sliced_last (get_or run 0 [])) in
    let rest : List ℕ = levels_from run (0 + 4 * g) (4 * (groups_of run - g)) in (
      bytes_back (group_place 0 g) (precoder_bits_after 0 precoder_bits (levels_in (take m run))) rest,
      ap (bytes_back 0 precoder_bits) (levels_front run m)
          ∙ bytes_append 0 g precoder_bits (levels_in (take m run)) rest (length-levels_there ps q (take m run) h)
          ∙ ap (λ (x : List ℤ). bytes_back 0 (precoder_bits_of (sliced_last x)) (levels_in (take m run))
          ++ bytes_back (group_place 0 g) (precoder_bits_after 0 precoder_bits (levels_in (take m run))) rest)
          (sym first),
    )

-- whatever comes then, the words of the front are near
pub front_near : (ps : List (List ℕ)) (q m j : ℕ) (run : List (List ℤ)) → ArePackets ps → IsThere ps q (take m run)
    → IsComplete 207 52 4 (828 * groups_of (take m run)) j → IsNear ps (312 * q + j) (word_at 207 52 4 (bytes_in run) j)
front_near ps q m j run p h c =
    let front = bytes_front ps q m run h in
    let all : IsComplete 207 52 4 (length (bytes_in (take m run))) j =
    subst (λ (n : ℕ). IsComplete 207 52 4 n j) (sym (length-bytes_there ps q (take m run) p h)) c in
    subst (IsNear ps (312 * q + j)) (sym (grind (arith, word_stays))) (word_there ps q j (take m run) p h c)

no_levels : levels_in [] ≡ []
unfolding levels_in levels_from groups_of data_count
no_levels = refl

no_bytes : bytes_in [] ≡ []
unfolding bytes_in bytes_back level_groups
no_bytes = ap (bytes_back 0 (first_bits [])) no_levels

-- a run that has a word has a segment
pub some_segments : (run : List (List ℤ)) (j : ℕ) → IsComplete 207 52 4 (length (bytes_in run)) j → 0 < length run
some_segments [] j given = let l = given 0 (omega arith) in absurd (omega (arith, l, ap length no_bytes))
some_segments (x ∷ run) j given = omega arith
