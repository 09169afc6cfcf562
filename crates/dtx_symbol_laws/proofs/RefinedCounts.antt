-- How many packets a run gives follows from how many segments it has. Rounds leave that number.
use Rattle.std.proofs.Common.{◌≡◌, ℕ, ℤ, ◌+◌, ◌-◌, ◌*◌, ◌/◌, ◌<◌, List, [], length, map, get_or, sum, sym, ap}
use Rattle.std.proofs.Common.{◌∙◌, arith}
use Rattle.std.specs.List.{flat_map, range_with_len}
use Rattle.std.proofs.lemmas.List.{length-map}
use Rattle.std.proofs.lemmas.List.Concat.{length-flat_map}
use Rattle.std.proofs.lemmas.List.Folds.{fold-map}
use Rattle.dtx_lists.proofs.Range.{map-range_same}
use Rattle.dtx_slice.specs.Unrolled.{level_groups}
use Rattle.dtx_receiver.specs.Bytes.{bytes_in, data_at, data_count, groups_of, levels_from, levels_in}
use Rattle.dtx_receiver.specs.Packets.{all_packets, run_packets}
use Rattle.dtx_receiver.proofs.CountingLemmas.{bytes_count}
use Rattle.dtx_receiver.proofs.SegmentsLemmas.{segment_long}
use Rattle.dtx_acquire.specs.Acquired.{acquired}
use Rattle.dtx_acquire.specs.Sent.{AreInFields}
use Rattle.dtx_acquire.proofs.SentLemmas.{row_long}
use Rattle.dtx_rounds.specs.Rounds.{refined}
use Rattle.dtx_rounds.proofs.SoFarLemmas.{length-refined}
use Rattle.dtx_symbol_laws.proofs.RefinedFields.{fields_refined, packets_of_run}

-- lists of the same lengths, one behind the other
same_lengths : (f g : ℕ → List ℕ) (n : ℕ) → ((i : ℕ) → i < n → length (f i) ≡ length (g i))
    → length (flat_map f (range_with_len 0 n)) ≡ length (flat_map g (range_with_len 0 n))
same_lengths f g n h = total f
    ∙ ap sum (map-range_same (λ i. length (f i)) (λ i. length (g i)) 0 n (λ i _ l. h i (omega (arith, l))))
    ∙ sym (total g)
  where
    total : (f : ℕ → List ℕ)
        → length (flat_map f (range_with_len 0 n)) ≡ sum (map (λ i. length (f i)) (range_with_len 0 n))
    total f = grind (arith, length-flat_map, fold-map)

-- each segment has 832 symbols
abbrev AreRows : List (List ℤ) → Type 0
AreRows run = (i : ℕ) → i < length run → length (get_or run i []) ≡ 832

row_there : (l d : ℕ) → d < 4 * ((l - (l + 312) / 313) / 4) → d + d / 312 + 1 < l
row_there l d h = omega arith

same_levels : (run other : List (List ℤ)) → AreRows run → AreRows other → length run ≡ length other
    → length (levels_in run) ≡ length (levels_in other)
unfolding levels_in levels_from data_at groups_of data_count
same_levels run other long whole e = grind (arith, same_lengths, segment_long, row_there)

same_bytes : (run other : List (List ℤ)) → AreRows run → AreRows other → length run ≡ length other
    → length (bytes_in run) ≡ length (bytes_in other)
unfolding level_groups
same_bytes run other long whole e = grind (arith, bytes_count, same_levels)

same_count : (run other : List (List ℤ)) → AreRows run → AreRows other → length run ≡ length other
    → length (run_packets (bytes_in run)) ≡ length (run_packets (bytes_in other))
unfolding run_packets
same_count run other long whole e = grind (arith, same_bytes, length-map)

pub packets_counted : (scale r : ℕ) (symbols : List ℤ) → 0 < scale → AreInFields (acquired scale symbols)
    → length (all_packets (refined scale symbols r)) ≡ length (all_packets (acquired scale symbols))
packets_counted scale r symbols some h =
    grind (arith, fields_refined, packets_of_run, same_count, row_long, length-refined)
