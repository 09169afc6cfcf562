-- What is restored of a field: a field sync, and data segments behind it.
use Rattle.std.proofs.Common.{◌≡◌, ◌≢◌, ℕ, ℤ, pos, negsuc, zero, suc, ◌+◌, ◌-◌, ◌*◌, ◌%◌, ◌<◌, ◌≤◌, List, [], ◌∷◌, ◌++◌}
use Rattle.std.proofs.Common.{length, map, drop, get_or, refl, sym, ap, ◌∙◌, subst, arith}
use Rattle.std.proofs.Math.Nat.{div-lt_iff_lt-mul}
use Rattle.std.proofs.lemmas.Bool.{cases_lt}
use Rattle.std.proofs.lemmas.List.{get_or-append_right, get_or-map, get_or_append_left}
use Rattle.std.proofs.lemmas.List.{length-append, length-drop, length-map}
use Rattle.std.proofs.lemmas.Simd.{map-map}
use Rattle.dtx_trellis.specs.Trellis.{symbol_of}
use Rattle.dtx_frame.specs.Segments.{data_segment, field_sync, segment_sync}
use Rattle.dtx_soft.specs.Softened.{softened}
use Rattle.dtx_acquire.specs.Acquired.{behind_groups, in_groups, restored, restored_data, restored_field, restored_sync}
use Rattle.dtx_acquire.specs.Acquired.{scaled_level}
use Rattle.dtx_acquire.specs.Agreement.{is_second}
use Rattle.dtx_acquire.specs.Sent.{AreLevels, AreInFields, IsData, IsSync}
use Rattle.dtx_acquire.proofs.WholeLemmas.{AreLong, length-restored, long_decided}

-- ---- a segment

level_small : (c : ℕ) (x : ℤ) → 0 < c → scaled_level c x < 8
unfolding scaled_level
level_small c (pos n) l = grind arith
level_small c (negsuc n) l = (div-lt_iff_lt-mul {k = 2 * c} {x = 8 * c - suc n} {y = 8} (omega arith)).1 (omega arith)

levels_from : (c a n : ℕ) (row : List ℤ) → 0 < c → length row ≡ a + n → AreLevels n (map (scaled_level c) (drop a row))
levels_from c a n row l e = record {
  long = long;
  small = λ d m.
      subst (λ z. z < 8) (sym (grind (arith, get_or-map, length-drop)))
      (level_small c (get_or (drop a row) d (pos 0)) l);
}
  where
    long : length (map (scaled_level c) (drop a row)) ≡ n
    long = length-map (drop a row) (scaled_level c) ∙ length-drop a row ∙ omega (arith, e)

pub data_given : (scale : ℕ) (row : List ℤ) → 0 < scale → length row ≡ 832 → IsData (restored_data scale row)
unfolding restored_data data_segment
data_given scale row l e = record {
  levels = map (scaled_level scale) (drop 4 row);
  are = levels_from scale 4 828 row l e;
  is = ap (λ xs. segment_sync ++ xs) (sym (map-map symbol_of (scaled_level scale) (drop 4 row)));
}

pub sync_given : (scale : ℕ) (row : List ℤ) → 0 < scale → length row ≡ 832 → IsSync (restored_sync scale row)
unfolding restored_sync
sync_given scale row l e = record {
  second = is_second row;
  last = map (scaled_level scale) (drop 820 row);
  are = levels_from scale 820 12 row l e;
  is = ap (field_sync (is_second row)) (sym (map-map symbol_of (scaled_level scale) (drop 820 row)));
}

-- ---- a field

field_given : (scale : ℕ) (rows : List (List ℤ)) (i : ℕ) → 0 < scale → AreLong rows
    → i < length (restored_field scale rows) → IsData (get_or (restored_field scale rows) i [])
unfolding restored_field
field_given scale rows i some h l =
    let all : List (List ℤ) = softened scale (in_groups rows) ++ behind_groups rows in
    let m : i < length all = omega (arith, l, length-map all (restored_data scale)) in
    subst IsData (grind (arith, get_or-map)) (data_given scale (get_or all i []) some (long_decided scale rows h i m))

pub restored_given : (scale : ℕ) (rows : List (List ℤ)) → 0 < scale → AreLong rows → length rows ≤ 313
    → AreInFields (restored scale rows)
restored_given scale [] some h few = grind arith
restored_given scale (r ∷ rows) some h few = record {
  syncs = λ i l e. sync_at i (omega (arith, l, length-restored scale (r ∷ rows))) e;
  others = data_at;
}
  where
    sync_at : (i : ℕ) → i < suc (length rows) → i % 313 ≡ 0 → IsSync (get_or (restored scale (r ∷ rows)) i [])
    sync_at zero l e = sync_given scale r some (h 0 (omega arith))
    sync_at (suc i) l e = absurd (omega (arith, l, e, few))

    data_at : (i : ℕ) → i < length (restored scale (r ∷ rows)) → i % 313 ≢ 0
        → IsData (get_or (restored scale (r ∷ rows)) i [])
    data_at zero l e = absurd (e refl)
    data_at (suc i) l e = field_given scale rows i some (λ j m. h (suc j) (omega arith)) (omega arith)

-- ---- one behind the other

pub segments_append : (xs ys : List (List ℤ)) → length xs % 313 ≡ 0 → AreInFields xs → AreInFields ys
    → AreInFields (xs ++ ys)
segments_append xs ys e h k = grind (arith, cases_lt, get_or_append_left, get_or-append_right, length-append)
