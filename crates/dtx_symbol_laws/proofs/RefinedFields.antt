-- The segments after rounds: field syncs stay, and data segments are data segments. So they are one run.
use Rattle.std.proofs.Common.{◌≡◌, ℕ, ℤ, pos, negsuc, zero, suc, ◌+◌, ◌-◌, ◌*◌, ◌/◌, ◌%◌, ◌<◌, inl, inr, ◌&&◌, nat_le}
use Rattle.std.proofs.Common.{nat_lt, false, List, [], ◌∷◌, ◌++◌, length, map, take, drop, get_or, refl, sym, ap, ap₂}
use Rattle.std.proofs.Common.{◌∙◌, subst, arith}
use Rattle.std.proofs.Math.Nat.{div-lt_iff_lt-mul}
use Rattle.std.proofs.lemmas.Bool.{cases_Bool, cond-false, cond-true}
use Rattle.std.proofs.lemmas.List.{append-nil, get_or-map, length-append, length-map, length-take-le}
use Rattle.std.proofs.lemmas.Simd.{map-map}
use Rattle.std.proofs.lemmas.List.FromFn.{get_or-map-range_with_len}
use Rattle.dtx_trellis.specs.Trellis.{symbol_of}
use Rattle.dtx_frame.specs.Segments.{data_segment, segment_sync}
use Rattle.dtx_slice.specs.Unrolled.{bytes_back, level_groups}
use Rattle.dtx_receiver.specs.Bytes.{bytes_in, data_count, groups_of, levels_from, levels_in}
use Rattle.dtx_receiver.specs.Packets.{all_packets, run_packets}
use Rattle.dtx_receiver.specs.Runs.{runs, tracked}
use Rattle.dtx_acquire.specs.Acquired.{acquired, decided, scaled_level}
use Rattle.dtx_acquire.specs.Sent.{AreInFields, AreLevels, IsData}
use Rattle.dtx_acquire.proofs.SentLemmas.{length_data, row_long}
use Rattle.dtx_rounds.specs.Known.{known_bytes}
use Rattle.dtx_rounds.specs.Rounds.{groups_in, heard_of, in_whole_group, paths_in, refined, round_segment, rounded}
use Rattle.dtx_rounds.specs.Rounds.{rounds_of}
use Rattle.dtx_rounds.proofs.RefinedLemmas.{length-rounded, rounded_long}
use Rattle.dtx_rounds.proofs.SoFarLemmas.{same_count}
use Rattle.dtx_symbol_laws.proofs.AcquiredRun.{one_run}

-- ---- a data segment

level_small : (c : ℕ) (x : ℤ) → 0 < c → scaled_level c x < 8
unfolding scaled_level
level_small c (pos n) l = grind arith
level_small c (negsuc n) l = (div-lt_iff_lt-mul {k = 2 * c} {x = 8 * c - suc n} {y = 8} (omega arith)).1 (omega arith)

are_levels : (scale : ℕ) (row : List ℤ) → 0 < scale → length row ≡ 828 → AreLevels 828 (map (scaled_level scale) row)
are_levels scale row some e = record {
  long = length-map row (scaled_level scale) ∙ e;
  small = λ d l.
      subst (λ z. z < 8) (sym (grind (arith, get_or-map))) (level_small scale (get_or row d (pos 0)) some);
}

sync_front : (row : List ℤ) → IsData row → take 4 row ≡ segment_sync
unfolding data_segment segment_sync
sync_front row h = ap (take 4) h.is ∙ refl

-- with its symbols decided anew
data_decided : (scale : ℕ) (row path : List ℤ) → 0 < scale → IsData row
    → length (take 4 row ++ map (decided scale) (drop 4 path)) ≡ 832
    → IsData (take 4 row ++ map (decided scale) (drop 4 path))
unfolding data_segment
data_decided scale row path some h long = record {
  levels = map (scaled_level scale) (drop 4 path);
  are = are_levels scale (drop 4 path) some rest;
  is = ap₂ (λ (xs ys : List ℤ). xs ++ ys) (sync_front row h)
      (sym (map-map symbol_of (scaled_level scale) (drop 4 path)));
}
  where
    front : length (take 4 row) ≡ 4
    front = length-take-le 4 row (omega (arith, length_data row h))

    rest : length (drop 4 path) ≡ 828
    rest = grind (arith, length-append, length-map)

-- ---- one round

segment_after : (scale : ℕ) (heard given : List (List ℤ)) (i : ℕ) → i < length given
    → get_or (rounded scale heard given) i [] ≡ round_segment scale heard (known_bytes (bytes_in given)) given i
unfolding rounded
segment_after scale heard given i l = grind (arith, get_or-map-range_with_len)

sync_in_none : (given : List (List ℤ)) (i : ℕ) → i % 313 ≡ 0 → in_whole_group given i ≡ false
unfolding in_whole_group
sync_in_none given i z = ap (λ n. nat_lt 0 n && nat_le n (length (groups_in given (i / 313)))) z

sync_stays : (scale : ℕ) (heard given : List (List ℤ)) (i : ℕ) → i < length given → i % 313 ≡ 0
    → get_or (rounded scale heard given) i [] ≡ get_or given i []
unfolding round_segment
sync_stays scale heard given i l z = grind (arith, segment_after, cond-false, sync_in_none)

data_after : (scale : ℕ) (heard given : List (List ℤ)) (i : ℕ) → 0 < scale → i < length given
    → IsData (get_or given i []) → length (get_or (rounded scale heard given) i []) ≡ 832
    → IsData (get_or (rounded scale heard given) i [])
unfolding round_segment
data_after scale heard given i some l h long = elim (cases_Bool (in_whole_group given i)) [
  | inl e ↦
      let is : get_or (rounded scale heard given) i [] ≡ on_path =
      segment_after scale heard given i l ∙ cond-true (in_whole_group given i) on_path (get_or given i []) e in
      subst IsData (sym is) (data_decided scale (get_or given i []) path some h (sym (ap length is) ∙ long))
  | inr e ↦ subst IsData (sym (segment_after scale heard given i l
      ∙ cond-false (in_whole_group given i) on_path (get_or given i []) e)) h
]
  where
    path : List ℤ
    path = get_or (paths_in scale heard (known_bytes (bytes_in given)) (i / 313)) (i % 313 - 1) []

    on_path : List ℤ
    on_path = take 4 (get_or given i []) ++ map (decided scale) (drop 4 path)

fields_rounded : (scale : ℕ) (heard given : List (List ℤ)) → 0 < scale → length heard ≡ length given
    → AreInFields given → AreInFields (rounded scale heard given)
fields_rounded scale heard given some same h =
    grind (arith, sync_stays, data_after, rounded_long, row_long, length-rounded)

-- ---- all rounds

pub fields_refined : (scale r : ℕ) (symbols : List ℤ) → 0 < scale → AreInFields (acquired scale symbols)
    → AreInFields (refined scale symbols r)
unfolding refined rounds_of
fields_refined scale zero symbols some h = h
fields_refined scale (suc r) symbols some h =
    fields_rounded scale (heard_of symbols) (refined scale symbols r) some (same_count scale r symbols)
    (fields_refined scale r symbols some h)

-- ---- their packets

pub no_bytes : bytes_in [] ≡ []
unfolding bytes_in bytes_back level_groups levels_in levels_from groups_of data_count
no_bytes = refl

none_given : all_packets [] ≡ run_packets (bytes_in [])
unfolding all_packets run_packets runs tracked
none_given = ap run_packets (sym no_bytes)

-- the packets of such segments are those of a single run
pub packets_of_run : (s : List (List ℤ)) → AreInFields s → all_packets s ≡ run_packets (bytes_in s)
unfolding all_packets
packets_of_run [] h = none_given
packets_of_run (x ∷ s) h = grind (arith, one_run, append-nil)
