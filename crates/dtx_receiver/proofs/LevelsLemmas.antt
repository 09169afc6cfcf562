-- The levels that are kept of a run, with one segment more.
use Rattle.std.proofs.Common.{◌≡◌, ◌≢◌, ℕ, ℤ, ◌+◌, ◌-◌, ◌*◌, ◌/◌, ◌%◌, ◌<◌, List, [], ◌∷◌, ◌++◌, length, take, drop}
use Rattle.std.proofs.Common.{refl, sym, ap, ap₂, ◌∙◌, arith, lit<}
use Rattle.std.proofs.lemmas.List.{length_push, length-append, length-take-le, length-drop, take_at, take_all}
use Rattle.dtx_slice.specs.Slicing.{sliced_data, sliced_last}
use Rattle.dtx_slice.specs.Unrolled.{bytes_back, precoder_bits_after, precoder_bits_of}
use Rattle.dtx_trellis.specs.Trellis.{group_place}
use Rattle.dtx_receiver.specs.Bytes.{data_count, groups_of, levels_from, levels_in, bytes_in}
use Rattle.dtx_receiver.specs.Receiver.{AreLevels}
use Rattle.dtx_receiver.proofs.SegmentsLemmas.{more_data, more_sync, levels_more, levels_stay, Still, still_data}
use Rattle.dtx_receiver.proofs.SegmentsLemmas.{still_sync, Grown, grown, first_levels, bits_first, groups_within}

pub levels_first : (x : List ℤ) (levels precoder_bits : List ℕ) → precoder_bits ≡ precoder_bits_of (sliced_last x)
    → AreLevels levels precoder_bits (x ∷ [])
unfolding levels_from groups_of data_count
levels_first x levels precoder_bits f = grind (arith, first_levels, bits_first)

pub levels_sync : (x : List ℤ) (levels precoder_bits : List ℕ) (run : List (List ℤ))
    → AreLevels levels precoder_bits run → length run % 313 ≡ 0 → AreLevels levels precoder_bits (run ++ x ∷ [])
levels_sync x levels precoder_bits run d z =
    let s : Still run (run ++ x ∷ []) = still_sync run x d.some z in
    let c : data_count (run ++ x ∷ []) ≡ data_count run = more_sync run x z in
    record {
      some = omega (arith, length_push run x);
      long = ap length s.levels ∙ d.long ∙ ap (λ g. 3312 * g) (sym s.groups);
      levels = ap (λ n. take (828 * (n % 4)) levels) c ∙ d.levels ∙ sym (grind (arith, levels_stay, groups_within));
      precoder_bits = d.precoder_bits ∙ sym s.precoder_bits;
    }

-- the levels of a segment are put behind those of the segments of its group
put : (n : ℕ) (old new more before : List ℕ) → length old ≡ 3312 → n < 4 → length more ≡ 828
    → new ≡ take (828 * n) old ++ more ++ drop (828 * n + 828) old
    → take (828 * n) old ≡ before → take (828 * (n + 1)) new ≡ before ++ more
put n old new more before l small m e f = grind (arith, length-append, length-take-le, take_at)

pub levels_data : (x : List ℤ) (levels new precoder_bits : List ℕ) (run : List (List ℤ))
    → AreLevels levels precoder_bits run → length run % 313 ≢ 0 → data_count run % 4 ≢ 3
    → length levels ≡ 3312 → length (sliced_data x) ≡ 828
    → new ≡ take (828 * (data_count run % 4)) levels ++ sliced_data x ++ drop (828 * (data_count run % 4) + 828) levels
    → AreLevels new precoder_bits (run ++ x ∷ [])
levels_data x levels new precoder_bits run d n p l m e =
    let c : data_count (run ++ x ∷ []) ≡ data_count run + 1 = more_data run x n in
    let r : (data_count run + 1) % 4 ≡ data_count run % 4 + 1 = omega (arith, p) in
    record {
      some = omega (arith, length_push run x);
      long = ap length (still_data run x n p).levels ∙ d.long ∙ ap (λ g. 3312 * g) (sym (still_data run x n p).groups);
      levels = ap (λ n. take (828 * n) new) (ap (λ n. n % 4) c ∙ r)
          ∙ put (data_count run % 4) levels new (sliced_data x)
          (levels_from run (4 * groups_of run) (data_count run % 4)) l (omega arith) m e d.levels
          ∙ sym (grind (arith, levels_more, groups_within));
      precoder_bits = d.precoder_bits ∙ sym (still_data run x n p).precoder_bits;
    }

-- ---- the segment that makes a group whole

place_now : (run : List (List ℤ)) (place : ℕ) → length run % 313 ≡ place + 1 → data_count run % 312 ≡ place
unfolding data_count
place_now run place e = grind arith

pub part_now : (run : List (List ℤ)) (place : ℕ) → length run % 313 ≡ place + 1 → data_count run % 4 ≡ place % 4
part_now run place e = by_count (data_count run) (place_now run place e)
  where
    by_count : (d : ℕ) → d % 312 ≡ place → d % 4 ≡ place % 4
    by_count d e = omega (arith, e)

group_now : (run : List (List ℤ)) (place : ℕ) → length run % 313 ≡ place + 1
    → group_place 0 (groups_of run) ≡ place - place % 4
unfolding group_place groups_of
group_now run place e = by_count (data_count run) (place_now run place e)
  where
    by_count : (d : ℕ) → d % 312 ≡ place → (0 + 4 * (d / 4)) % 312 ≡ place - place % 4
    by_count d e = omega (arith, e)

pub not_due_now : (run : List (List ℤ)) (place : ℕ) → length run % 313 ≡ place + 1 → length run % 313 ≢ 0
not_due_now run place e = λ z. omega (arith, e, z)

-- With this segment, at this place of its field, the group's levels are z, where these were kept of it.
pub record Whole (x : List ℤ) (kept : List ℕ) (run : List (List ℤ)) (place : ℕ) (z : List ℕ) : Type 0 where
  pub due : length run % 313 ≡ place + 1
  pub last : place % 4 ≡ 3
  pub long : length kept ≡ 3312
  pub segment : length (sliced_data x) ≡ 828
  pub group : length z ≡ 3312
  pub levels : z ≡ take (828 * (place % 4)) kept ++ sliced_data x ++ drop (828 * (place % 4) + 828) kept

-- how many levels there are, those of a segment put among them
put_long : (n : ℕ) (old more : List ℕ) → length old ≡ 3312 → n < 4 → length more ≡ 828
    → length (take (828 * n) old ++ more ++ drop (828 * n + 828) old) ≡ 3312
put_long n old more l small m = grind (arith, length-append, length-take-le, length-drop)

pub whole_now : (x : List ℤ) (kept : List ℕ) (run : List (List ℤ)) (place : ℕ) (z : List ℕ)
    → length run % 313 ≡ place + 1 → place % 4 + 1 ≡ 4 → length kept ≡ 3312 → length (sliced_data x) ≡ 828
    → z ≡ take (828 * (place % 4)) kept ++ sliced_data x ++ drop (828 * (place % 4) + 828) kept
    → Whole x kept run place z
whole_now x kept run place z due last long segment levels = record {
  due = due;
  last = omega (arith, last);
  long = long;
  segment = segment;
  group = ap length levels ∙ put_long (place % 4) kept (sliced_data x) long (omega arith) segment;
  levels = levels;
}

whole_levels : (x : List ℤ) (levels precoder_bits : List ℕ) (run : List (List ℤ)) (place : ℕ) (z : List ℕ)
    → Whole x levels run place z → AreLevels levels precoder_bits run
    → levels_from run (4 * groups_of run) 3 ++ sliced_data x ≡ z
whole_levels x levels precoder_bits run place z w d = sym (sym (take_all 3312 z (omega (arith, w.group)))
    ∙ put 3 levels z (sliced_data x) (levels_from run (4 * groups_of run) 3) w.long (lit< tt) w.segment (w.levels
    ∙ ap (λ n. take (828 * n) levels ++ sliced_data x ++ drop (828 * n + 828) levels) w.last)
    (ap (λ n. take (828 * n) levels) (sym (part_now run place w.due ∙ w.last)) ∙ d.levels
    ∙ ap (levels_from run (4 * groups_of run)) (part_now run place w.due ∙ w.last)))

levels_none : (run : List (List ℤ)) (a : ℕ) → levels_from run a 0 ≡ []
unfolding levels_from
levels_none run a = refl

-- what such a group adds
pub record Added (x : List ℤ) (precoder_bits : List ℕ) (run : List (List ℤ)) (place : ℕ) (z : List ℕ) : Type 0 where
  pub levels : AreLevels z (precoder_bits_after (place - place % 4) precoder_bits z) (run ++ x ∷ [])
  pub bytes : bytes_in (run ++ x ∷ []) ≡ bytes_in run ++ bytes_back (place - place % 4) precoder_bits z
  pub groups : groups_of (run ++ x ∷ []) ≡ groups_of run + 1

pub levels_group : (x : List ℤ) (levels precoder_bits : List ℕ) (run : List (List ℤ)) (place : ℕ) (z : List ℕ)
    → Whole x levels run place z → AreLevels levels precoder_bits run → Added x precoder_bits run place z
levels_group x levels precoder_bits run place z w d =
    let g : Grown run (run ++ x ∷ []) z = grown run x z (not_due_now run place w.due) (part_now run place w.due
    ∙ w.last) d.long (whole_levels x levels precoder_bits run place z w d) in
    let n : data_count (run ++ x ∷ []) % 4 ≡ 0 = ap (λ c. c % 4) (more_data run x (not_due_now run place w.due))
    ∙ omega (arith, part_now run place w.due ∙ w.last) in
    record {
      levels = record {
        some = omega (arith, length_push run x);
        long = ap length g.levels ∙ length-append (levels_in run) z ∙ omega (arith, d.long, w.group, g.groups);
        levels = ap (λ c. take (828 * c) z) n
            ∙ sym (ap (levels_from (run ++ x ∷ []) (4 * groups_of (run ++ x ∷ []))) n
            ∙ levels_none (run ++ x ∷ []) (4 * groups_of (run ++ x ∷ [])));
        precoder_bits = ap₂ (λ s y. precoder_bits_after s y z) (sym (group_now run place w.due)) d.precoder_bits
            ∙ sym g.precoder_bits;
      };
      bytes = g.bytes
          ∙ ap₂ (λ s f. bytes_in run ++ bytes_back s f z) (group_now run place w.due) (sym d.precoder_bits);
      groups = g.groups;
    }
