-- What is kept of a run's groups, with more segments.
use Rattle.std.proofs.Common.{◌≡◌, ◌≢◌, ℕ, ℤ, ◌+◌, ◌-◌, ◌*◌, ◌%◌, List, [], ◌∷◌, ◌++◌, length, take, drop, refl, sym}
use Rattle.std.proofs.Common.{ap, ◌∙◌, subst, append_assoc, arith}
use Rattle.std.specs.List.{flat_map}
use Rattle.std.proofs.lemmas.Grind.{flat_map-append}
use Rattle.std.proofs.lemmas.List.{append-nil, length-append, length_push}
use Rattle.dtx_slice.specs.Slicing.{sliced_data, sliced_last}
use Rattle.std.proofs.lemmas.List.FromFn.{length-map-range_with_len}
use Rattle.dtx_slice.specs.Unrolled.{byte_back, bytes_back, level_groups, precoder_bits_after, precoder_bits_of}
use Rattle.dtx_slice.proofs.JoinsLemmas.{groups_whole}
use Rattle.dtx_receiver.specs.Bytes.{data_count, groups_of, first_bits, levels_in, bytes_in}
use Rattle.dtx_receiver.specs.Receiver.{AreGrouped, AreLevels, Grouping}
use Rattle.dtx_receiver.proofs.LevelsLemmas.{levels_first, levels_data, levels_group, Added, Whole}
use Rattle.dtx_receiver.proofs.SegmentsLemmas.{still_data, first_bytes}

-- what is kept, of its parts
abbrev pub grouping : List ℕ → List ℕ → List (List ℕ) → Grouping
grouping levels precoder_bits held = record { levels = levels; precoder_bits = precoder_bits; held = held }

-- the bytes of groups, one behind the other
abbrev pub flat : List (List ℕ) → List ℕ
flat held = flat_map (λ bytes. bytes) held

-- how many bytes a group has
pub group_long : (first : ℕ) (bits levels : List ℕ) → length levels ≡ 3312 → length (bytes_back first bits levels) ≡ 828
unfolding bytes_back
group_long first bits levels l = length-map-range_with_len (byte_back first bits levels) 0 (828 * level_groups levels)
    ∙ ap (λ g. 828 * g) (groups_whole 1 levels l)

flat_more : (held : List (List ℕ)) (bytes : List ℕ) → flat (held ++ bytes ∷ []) ≡ flat held ++ bytes
flat_more held bytes = grind (arith, flat_map-append, append-nil)

pub grouped_first : (x : List ℤ) (levels bits : List ℕ) → bits ≡ precoder_bits_of (sliced_last x)
    → AreGrouped (grouping levels bits []) (x ∷ []) []
grouped_first x levels bits f = record { levels = levels_first x levels bits f; bytes = first_bytes x; long = refl }

-- where none is held, all bytes were given on
pub grouped_none : (kept : Grouping) (run : List (List ℤ)) → AreLevels kept.levels kept.precoder_bits run
    → kept.held ≡ [] → AreGrouped kept run (bytes_in run)
grouped_none kept run a n = grind (arith, append-nil)

-- a segment that makes no group whole
pub grouped_data : (x : List ℤ) (kept new : Grouping) (run : List (List ℤ)) (given : List ℕ) → AreGrouped kept run given
    → length run % 313 ≢ 0 → data_count run % 4 ≢ 3 → length kept.levels ≡ 3312 → length (sliced_data x) ≡ 828
    → new.levels ≡ take (828 * (data_count run % 4)) kept.levels ++ sliced_data x
    ++ drop (828 * (data_count run % 4) + 828) kept.levels
    → new.precoder_bits ≡ kept.precoder_bits → new.held ≡ kept.held → AreGrouped new (run ++ x ∷ []) given
grouped_data x kept new run given d n p l m e f h = record {
  levels = subst (λ (bits : List ℕ). AreLevels new.levels bits (run ++ x ∷ [])) (sym f)
      (levels_data x kept.levels new.levels kept.precoder_bits run d.levels n p l m e);
  bytes = (still_data run x n p).bytes ∙ d.bytes ∙ ap (λ held. given ++ flat held) (sym h);
  long = ap (λ held. length (flat held)) h ∙ d.long ∙ ap (λ held. 828 * length held) (sym h);
}

-- one that makes one whole, of these levels
pub grouped_group : (x : List ℤ) (kept new : Grouping) (run : List (List ℤ)) (given : List ℕ) (place : ℕ) (z : List ℕ)
    → Whole x kept.levels run place z → AreGrouped kept run given
    → new.levels ≡ z → new.precoder_bits ≡ precoder_bits_after (place - place % 4) kept.precoder_bits z
    → length (bytes_back (place - place % 4) kept.precoder_bits z) ≡ 828
    → new.held ≡ kept.held ++ bytes_back (place - place % 4) kept.precoder_bits z ∷ []
    → AreGrouped new (run ++ x ∷ []) given
grouped_group x kept new run given place z w d l f long h =
    let a : Added x kept.precoder_bits run place z =
    levels_group x kept.levels kept.precoder_bits run place z w d.levels in
    let bytes : List ℕ = bytes_back (place - place % 4) kept.precoder_bits z in
    record {
      levels = subst (λ (ls : List ℕ). AreLevels ls new.precoder_bits (run ++ x ∷ [])) (sym l) (grind arith);
      bytes = a.bytes ∙ ap (λ xs. xs ++ bytes) d.bytes ∙ append_assoc given (flat kept.held) bytes
          ∙ ap (λ xs. given ++ xs) (sym (flat_more kept.held bytes) ∙ ap flat (sym h));
      long = ap (λ held. length (flat held)) h ∙ ap length (flat_more kept.held bytes)
          ∙ length-append (flat kept.held) bytes
          ∙ omega (arith, d.long, long, ap length h, length_push kept.held bytes);
    }

-- ---- how many groups there are

-- how many bytes the whole groups have
pub bytes_long : {levels bits : List ℕ} (run : List (List ℤ)) → AreLevels levels bits run
    → length (bytes_in run) ≡ 828 * groups_of run
unfolding bytes_in bytes_back
bytes_long run a =
    length-map-range_with_len (byte_back 0 (first_bits run) (levels_in run)) 0 (828 * level_groups (levels_in run))
    ∙ ap (λ g. 828 * g) (groups_whole (groups_of run) (levels_in run) a.long)

-- with the bytes of h groups more
pub groups_grown : {levels bits fore back : List ℕ} (run all : List (List ℤ)) (more : List ℕ) (h : ℕ)
    → AreLevels levels bits run → AreLevels fore back all → bytes_in all ≡ bytes_in run ++ more
    → length more ≡ 828 * h → groups_of all ≡ groups_of run + h
groups_grown run all more h a b e l =
    omega (arith, bytes_long all b, bytes_long run a, ap length e, length-append (bytes_in run) more, l)
