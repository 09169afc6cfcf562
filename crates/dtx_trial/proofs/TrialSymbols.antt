-- What a transmitter sends and logs that is given a trial's feed, and which packets come back of it.
use Rattle.std.proofs.Common.{◌≡◌, ◌≢◌, ◌⊎◌, inl, inr, ℕ, ℤ, ◌+◌, ◌-◌, ◌*◌, ◌/◌, ◌%◌, ◌≤◌, List, [], ◌∷◌, ◌++◌, length}
use Rattle.std.proofs.Common.{map, drop, get_or, refl, ap, ap₂, ◌∙◌, arith}
use Rattle.std.specs.Prelude.{filter}
use Rattle.std.specs.List.{flat_map, range_with_len}
use Rattle.std.proofs.lemmas.Bool.{cases_eq, cond-false, cond-true, eq-eqb, ne_eqb}
use Rattle.std.proofs.lemmas.List.{append-nil, length-drop, take_all}
use Rattle.std.proofs.lemmas.List.Folds.{flat_map-map}
use Rattle.dtx_lists.proofs.Range.{range_with_len-parts}
use Rattle.dtx_lists.proofs.RangeMoved.{map-range_moved}
use Rattle.dtx_coder.proofs.CountsLemmas.{length-a53}
use Rattle.dtx_coder.specs.Stream.{a53}
use Rattle.dtx_clock.specs.Clock.{moment_of, stamp_of}
use Rattle.dtx_receiver.specs.Bytes.{data_count, groups_of}
use Rattle.dtx_receiver.proofs.CompleteLemmas.{complete_last, complete_none, complete_parts}
use Rattle.dtx_receiver.specs.Packets.{is_complete}
use Rattle.dtx_chain.proofs.AllBackLemmas.{data_all}
use Rattle.dtx_chain.specs.Damage.{numbers_in, as_received}
use Rattle.dtx_exciter.specs.Lockstep.{segment_place}
use Rattle.dtx_exciter.specs.Log.{Line, preset}
use Rattle.dtx_network.specs.Headline.{last_packet, stretch_of}
use Rattle.dtx_network.specs.Orders.{preset_at, presets}
use Rattle.dtx_top.specs.Trial.{trial_plan}
use Rattle.dtx_trial.proofs.MadeOrders.{IsOrdered, each_312, orders_are}
use Rattle.dtx_trial.specs.TrialFiles.{order_line, whole_from_312}

-- ---- symbols

-- the stretch from packet 100 on goes to the end of all segments
pub stretch_is : (fed : List (List ℕ)) (count : ℕ) → length fed ≡ count → 104 ≤ count
    → stretch_of fed 100 count ≡ drop 101 (a53 fed)
unfolding stretch_of
stretch_is fed count long least = take_all (segment_place (last_packet count) + 1 - 101) (drop 101 (a53 fed))
    (omega (arith, least, long, length-drop 101 (a53 fed), length-a53 fed))

-- ---- lines

abbrev line_at : ℤ → ℕ → ℕ → ℕ → Line
line_at offset segment frame packet =
    preset segment frame packet (moment_of (stamp_of 0 frame) 5000000 offset packet).tick
    (moment_of (stamp_of 0 frame) 5000000 offset packet).grain

line_is : (seed count : ℕ) (offset : ℤ) (i : ℕ)
    → preset_at (trial_plan seed count) offset 0 100 (each_312 i) ≡ order_line offset i
line_is seed count offset i = grind (arith, each_312)

map_both : {X : Type 0} (f : ℕ → X) (g : ℕ → ℕ) (h : ℕ → X) (xs : List ℕ) → ((i : ℕ) → f (g i) ≡ h i)
    → map f (map g xs) ≡ map h xs
map_both f g h [] e = refl
map_both f g h (x ∷ xs) e = ap₂ (λ y ys. y ∷ ys) (e x) (map_both f g h xs e)

pub lines_are : (seed count : ℕ) (fed : List (List ℕ)) (offset : ℤ) → 104 ≤ count → IsOrdered fed seed count
    → presets (trial_plan seed count) offset 0 fed 100 count
    ≡ map (order_line offset) (range_with_len 0 ((count + 208) / 312))
unfolding presets
lines_are seed count fed offset least same =
    ap (map (preset_at (trial_plan seed count) offset 0 100)) (orders_are fed seed count least same)
    ∙ map_both (preset_at (trial_plan seed count) offset 0 100) each_312 (order_line offset)
    (range_with_len 0 ((count + 208) / 312)) (line_is seed count offset)

-- ---- which packets come back

-- of a run of so many groups
whole_of : (u : ℕ) → 13 ≤ u
    → filter (is_complete (207 * (4 * u))) (range_with_len 0 (4 * u)) ≡ range_with_len 0 (whole_from_312 (4 * u + 312))
whole_of u least = complete_parts s ∙ by_end (cases_eq (s % 52) 0)
  where
    s : ℕ
    s = 4 * u

    front : List ℕ
    front = range_with_len 0 (s - 52)

    by_end : (s % 52 ≡ 0) ⊎ (s % 52 ≢ 0)
        → front ++ filter (is_complete (207 * s)) (range_with_len (s - 52) (s - (s - 52)))
        ≡ range_with_len 0 (whole_from_312 (s + 312))
    by_end (inl z) = grind (arith, cond-true, eq-eqb, complete_last, range_with_len-parts)
    by_end (inr z) = grind (arith, cond-false, ne_eqb, complete_none, append-nil)

run_groups : (run : List (List ℤ)) (u : ℕ) → length run ≡ 4 * u + (u + 77) / 78 → groups_of run ≡ u
unfolding groups_of data_count
run_groups run u long = omega (arith, data_all (length run) u long)

-- of the run that begins with the field sync before packet 312
pub numbers_are : (fed : List (List ℕ)) (count : ℕ) → length fed ≡ count → 624 ≤ count
    → numbers_in (drop 212 (drop 101 (a53 fed))) ≡ range_with_len 0 (whole_from_312 (4 * (count / 4)))
unfolding numbers_in
numbers_are fed count long least =
    let u : ℕ = count / 4 - 78 in
    let run : List (List ℤ) = drop 212 (drop 101 (a53 fed)) in
    let groups : groups_of run ≡ u = run_groups run u (omega (
      arith,
      least,
      long,
      length-drop 212 (drop 101 (a53 fed)),
      length-drop 101 (a53 fed),
      length-a53 fed,
    )) in
    let words : 828 * u ≡ 207 * (4 * u) = omega arith in
    let all : 4 * u + 312 ≡ 4 * (count / 4) = omega (arith, least) in
    ap (λ n. filter (is_complete (828 * n)) (range_with_len 0 (4 * n))) groups
    ∙ ap (λ n. filter (is_complete n) (range_with_len 0 (4 * u))) words
    ∙ whole_of u (omega (arith, least)) ∙ ap (λ n. range_with_len 0 (whole_from_312 n)) all

pub bytes_back : (fed : List (List ℕ)) (n : ℕ)
    → flat_map (λ p. p) (map (λ j. as_received (get_or fed (312 + j) [])) (range_with_len 0 n))
    ≡ flat_map (λ k. as_received (get_or fed k [])) (range_with_len 312 n)
bytes_back fed n = ap (flat_map (λ p. p)) (map-range_moved (λ j. as_received (get_or fed (312 + j) []))
    (λ k. as_received (get_or fed k [])) 0 312 n (λ i l. grind arith))
    ∙ flat_map-map (λ p. p) (λ k. as_received (get_or fed k [])) (range_with_len 312 n)
