-- The data segments of a run, their groups, levels and bytes, with one segment more.
use Rattle.std.proofs.Common.{◌≡◌, ◌≢◌, ℕ, ℤ, ◌+◌, ◌-◌, ◌*◌, ◌/◌, ◌%◌, ◌<◌, ◌≤◌, List, [], ◌∷◌, ◌++◌, length, drop}
use Rattle.std.proofs.Common.{get_or, refl, ap, ap₂, ◌∙◌, arith}
use Rattle.std.proofs.lemmas.List.{length_push, get_or_append_left, get_or_push, length-map, length-drop, append-nil}
use Rattle.std.proofs.lemmas.Grind.{flat_map-append}
use Rattle.std.proofs.lemmas.List.FromFn.{get_or-map-range_with_len}
use Rattle.dtx_lists.proofs.Range.{range_with_len-parts, map-range_same}
use Rattle.dtx_trellis.specs.Trellis.{group_place}
use Rattle.dtx_slice.specs.Slicing.{sliced, sliced_data, sliced_last}
use Rattle.dtx_slice.specs.Unrolled.{level_groups, precoder_bit, bytes_back, precoder_bits_after, precoder_bits_of}
use Rattle.dtx_slice.proofs.JoinsLemmas.{bytes_append, precoder_bits_append}
use Rattle.dtx_slice.proofs.PlacesLemmas.{precoder_bit_zero}
use Rattle.dtx_receiver.specs.Bytes.{data_count, data_at, groups_of, levels_from, levels_in, first_bits}
use Rattle.dtx_receiver.specs.Bytes.{precoder_bits_in, bytes_in}
use Rattle.dtx_lists.proofs.RangeMoved.{flat_map-range_same}

-- ---- numbers

count_data : (l : ℕ) → l % 313 ≢ 0 → l + 1 - (l + 1 + 312) / 313 ≡ l - (l + 312) / 313 + 1
count_data l n = omega arith

count_sync : (l : ℕ) → l % 313 ≡ 0 → l + 1 - (l + 1 + 312) / 313 ≡ l - (l + 312) / 313
count_sync l z = omega arith

pub place_data : (l : ℕ) → l % 313 ≢ 0 → (l - (l + 312) / 313) + (l - (l + 312) / 313) / 312 + 1 ≡ l
place_data l n = omega arith

place_before : (l d : ℕ) → d < l - (l + 312) / 313 → d + d / 312 + 1 < l
place_before l d h = omega arith

-- ---- with one segment more

pub more_data : (run : List (List ℤ)) (x : List ℤ) → length run % 313 ≢ 0
    → data_count (run ++ x ∷ []) ≡ data_count run + 1
unfolding data_count
more_data run x n = ap (λ l. l - (l + 312) / 313) (length_push run x) ∙ count_data (length run) n

pub more_sync : (run : List (List ℤ)) (x : List ℤ) → length run % 313 ≡ 0 → data_count (run ++ x ∷ []) ≡ data_count run
unfolding data_count
more_sync run x z = ap (λ l. l - (l + 312) / 313) (length_push run x) ∙ count_sync (length run) z

pub data_stays : (run : List (List ℤ)) (x : List ℤ) (d : ℕ) → d < data_count run
    → data_at (run ++ x ∷ []) d ≡ data_at run d
unfolding data_count data_at
data_stays run x d l = get_or_append_left run (x ∷ []) [] (d + d / 312 + 1) (place_before (length run) d l)

pub data_last : (run : List (List ℤ)) (x : List ℤ) → length run % 313 ≢ 0 → data_at (run ++ x ∷ []) (data_count run) ≡ x
unfolding data_count data_at
data_last run x n = grind (arith, place_data, get_or_push)

pub levels_stay : (run : List (List ℤ)) (x : List ℤ) (a n : ℕ) → a + n ≤ data_count run
    → levels_from (run ++ x ∷ []) a n ≡ levels_from run a n
unfolding levels_from
levels_stay run x a n l = grind (arith, flat_map-range_same, data_stays)

pub levels_parts : (run : List (List ℤ)) (a m n : ℕ)
    → levels_from run a (m + n) ≡ levels_from run a m ++ levels_from run (a + m) n
unfolding levels_from
levels_parts run a m n = grind (arith, range_with_len-parts, flat_map-append)

levels_one : (run : List (List ℤ)) (a : ℕ) → levels_from run a 1 ≡ sliced_data (data_at run a)
unfolding levels_from
levels_one run a = append-nil (sliced_data (data_at run a))

pub levels_more : (run : List (List ℤ)) (x : List ℤ) (a n : ℕ) → length run % 313 ≢ 0 → a + n ≡ data_count run
    → levels_from (run ++ x ∷ []) a (n + 1) ≡ levels_from run a n ++ sliced_data x
levels_more run x a n h e = grind (arith, levels_parts, levels_stay, levels_one, data_last)

pub first_stays : (run : List (List ℤ)) (x : List ℤ) → 0 < length run → first_bits (run ++ x ∷ []) ≡ first_bits run
unfolding first_bits
first_stays run x l = ap (λ s. precoder_bits_of (sliced_last s)) (get_or_append_left run (x ∷ []) [] 0 l)

-- ---- where no group becomes whole

pub some_before : (run : List (List ℤ)) → length run % 313 ≢ 0 → 0 < length run
some_before run n = grind arith

pub record Still (run new : List (List ℤ)) : Type 0 where
  pub groups : groups_of new ≡ groups_of run
  pub levels : levels_in new ≡ levels_in run
  pub precoder_bits : precoder_bits_in new ≡ precoder_bits_in run
  pub bytes : bytes_in new ≡ bytes_in run

still_from : (run : List (List ℤ)) (x : List ℤ) → 0 < length run → groups_of (run ++ x ∷ []) ≡ groups_of run
    → 4 * groups_of run ≤ data_count run → Still run (run ++ x ∷ [])
unfolding levels_in precoder_bits_in bytes_in
still_from run x l e m =
    let same : levels_in (run ++ x ∷ []) ≡ levels_in run = ap (λ g. levels_from (run ++ x ∷ []) 0 (4 * g)) e
    ∙ levels_stay run x 0 (4 * groups_of run) (omega (arith, m)) in
    let first : first_bits (run ++ x ∷ []) ≡ first_bits run = first_stays run x l in
    record {
      groups = e;
      levels = same;
      precoder_bits = ap₂ (λ f y. precoder_bits_after 0 f y) first same;
      bytes = ap₂ (λ f y. bytes_back 0 f y) first same;
    }

pub groups_within : (run : List (List ℤ)) → 4 * groups_of run + data_count run % 4 ≡ data_count run
unfolding groups_of
groups_within run = grind arith

quarter : (d : ℕ) → d % 4 ≢ 3 → (d + 1) / 4 ≡ d / 4
quarter d n = omega arith

next_quarter : (d : ℕ) → d % 4 ≡ 3 → (d + 1) / 4 ≡ d / 4 + 1
next_quarter d e = omega arith

pub still_data : (run : List (List ℤ)) (x : List ℤ) → length run % 313 ≢ 0 → data_count run % 4 ≢ 3
    → Still run (run ++ x ∷ [])
unfolding groups_of
still_data run x n p = still_from run x (some_before run n) (ap (λ d. d / 4) (more_data run x n)
    ∙ quarter (data_count run) p) (omega (arith, groups_within run))

pub still_sync : (run : List (List ℤ)) (x : List ℤ) → 0 < length run → length run % 313 ≡ 0 → Still run (run ++ x ∷ [])
unfolding groups_of
still_sync run x l z = still_from run x l (ap (λ d. d / 4) (more_sync run x z)) (omega (arith, groups_within run))

-- ---- where one does

pub record Grown (run new : List (List ℤ)) (z : List ℕ) : Type 0 where
  pub groups : groups_of new ≡ groups_of run + 1
  pub last : levels_from new (4 * groups_of run) 4 ≡ z
  pub levels : levels_in new ≡ levels_in run ++ z
  pub precoder_bits : precoder_bits_in new ≡ precoder_bits_after (group_place 0 (groups_of run))
      (precoder_bits_in run) z
  pub bytes : bytes_in new ≡ bytes_in run ++ bytes_back (group_place 0 (groups_of run)) (precoder_bits_in run) z

more_groups : (run : List (List ℤ)) (x : List ℤ) → length run % 313 ≢ 0 → data_count run % 4 ≡ 3
    → groups_of (run ++ x ∷ []) ≡ groups_of run + 1
unfolding groups_of
more_groups run x n p = ap (λ d. d / 4) (more_data run x n) ∙ next_quarter (data_count run) p

last_grown : (run : List (List ℤ)) (x : List ℤ) → length run % 313 ≢ 0 → data_count run % 4 ≡ 3
    → levels_from (run ++ x ∷ []) (4 * groups_of run) 4 ≡ levels_from run (4 * groups_of run) 3 ++ sliced_data x
last_grown run x n p = levels_more run x (4 * groups_of run) 3 n (grind (arith, groups_within))

pub levels_grown : (run : List (List ℤ)) (x : List ℤ) → length run % 313 ≢ 0 → data_count run % 4 ≡ 3
    → levels_in (run ++ x ∷ []) ≡ levels_in run ++ (levels_from run (4 * groups_of run) 3 ++ sliced_data x)
unfolding levels_in
levels_grown run x n p = ap (λ g. levels_from (run ++ x ∷ []) 0 (4 * g)) (more_groups run x n p)
    ∙ ap (levels_from (run ++ x ∷ []) 0) (omega arith)
    ∙ levels_parts (run ++ x ∷ []) 0 (4 * groups_of run) 4
    ∙ ap₂ (λ (xs ys : List ℕ). xs ++ ys) (levels_stay run x 0 (4 * groups_of run) (omega (arith, groups_within run)))
    (ap (λ a. levels_from (run ++ x ∷ []) a 4) (omega arith) ∙ last_grown run x n p)

pub grown : (run : List (List ℤ)) (x : List ℤ) (z : List ℕ) → length run % 313 ≢ 0 → data_count run % 4 ≡ 3
    → length (levels_in run) ≡ 3312 * groups_of run
    → levels_from run (4 * groups_of run) 3 ++ sliced_data x ≡ z → Grown run (run ++ x ∷ []) z
unfolding precoder_bits_in bytes_in
grown run x z n p long e =
    let levels : levels_in (run ++ x ∷ []) ≡ levels_in run ++ z =
    levels_grown run x n p ∙ ap (λ ys. levels_in run ++ ys) e in
    let first : first_bits (run ++ x ∷ []) ≡ first_bits run = first_stays run x (some_before run n) in
    record {
      groups = more_groups run x n p;
      last = last_grown run x n p ∙ e;
      levels = levels;
      precoder_bits = ap₂ (λ f y. precoder_bits_after 0 f y) first levels
          ∙ precoder_bits_append 0 (groups_of run) (first_bits run) (levels_in run) z long;
      bytes = ap₂ (λ f y. bytes_back 0 f y) first levels
          ∙ bytes_append 0 (groups_of run) (first_bits run) (levels_in run) z long;
    }

-- ---- the first field sync of a run

pub first_groups : (x : List ℤ) → groups_of (x ∷ []) ≡ 0
unfolding groups_of data_count
first_groups x = refl

pub first_levels : (x : List ℤ) → levels_in (x ∷ []) ≡ []
unfolding levels_in levels_from groups_of data_count
first_levels x = refl

pub first_bytes : (x : List ℤ) → bytes_in (x ∷ []) ≡ []
unfolding bytes_in bytes_back level_groups
first_bytes x = ap (bytes_back 0 (first_bits (x ∷ []))) (first_levels x)

pub bits_first : (x : List ℤ) → precoder_bits_in (x ∷ []) ≡ precoder_bits_of (sliced_last x)
unfolding precoder_bits_in first_bits precoder_bits_after precoder_bits_of level_groups
bits_first x = ap (precoder_bits_after 0 (precoder_bits_of (sliced_last x))) (first_levels x)
    ∙ map-range_same (precoder_bit 0 (precoder_bits_of (sliced_last x)) [] 0)
    (λ e. get_or (sliced_last x) ((e + 4) % 12) 0 / 4) 0 12
    (λ e _ l. precoder_bit_zero 0 e (precoder_bits_of (sliced_last x)) []
    ∙ get_or-map-range_with_len (λ e. get_or (sliced_last x) ((e + 4) % 12) 0 / 4) 0 12 e e 0 l (omega arith))

-- ---- the levels of a segment

pub segment_long : (x : List ℤ) → length x ≡ 832 → length (sliced_data x) ≡ 828
unfolding sliced_data
segment_long x l = length-map (drop 4 x) sliced ∙ length-drop 4 x ∙ omega (arith, l)
