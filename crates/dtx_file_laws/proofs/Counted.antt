-- Which packets of a stream come back, and how many.
use Rattle.std.proofs.Common.{◌≡◌, ◌≢◌, ◌⊎◌, inl, inr, ℕ, ℤ, ◌+◌, ◌-◌, ◌*◌, ◌/◌, ◌%◌, ◌<◌, ◌≤◌, ◌==◌, Bool, true, false}
use Rattle.std.proofs.Common.{cond, List, [], ◌++◌, length, map, take, get_or, ap, ◌∙◌, arith}
use Rattle.std.specs.Prelude.{filter}
use Rattle.std.specs.List.{flat_map, range_with_len}
use Rattle.std.proofs.lemmas.Bool.{cases_eq, cond-false, cond-true, eq-eqb, ne_eqb}
use Rattle.std.proofs.lemmas.List.{append-nil, get_or-take, length-take-le}
use Rattle.std.proofs.lemmas.List.Folds.{flat_map-map}
use Rattle.std.proofs.lemmas.List.FromFn.{fill_by_all}
use Rattle.dtx_lists.proofs.Range.{range_with_len-parts}
use Rattle.dtx_chain.proofs.AllBackLemmas.{data_all}
use Rattle.dtx_chain.specs.Damage.{numbers_in, as_received}
use Rattle.dtx_coder.proofs.CountsLemmas.{length-a53}
use Rattle.dtx_coder.specs.Stream.{a53}
use Rattle.dtx_receiver.specs.Bytes.{data_count, groups_of}
use Rattle.dtx_receiver.proofs.CompleteLemmas.{complete_last, complete_none, complete_parts}
use Rattle.dtx_receiver.specs.Packets.{is_complete}
use Rattle.dtx_file_laws.specs.Back.{back_of_all, back_of_sent, packets_back}

-- ---- which words are whole

-- of so many packets that are sent
whole_are : (s : ℕ) → 0 < s → filter (is_complete (207 * s)) (range_with_len 0 s) ≡ range_with_len 0 (back_of_sent s)
whole_are s some = complete_parts s ∙ by_end (cases_eq (s % 52) 0)
  where
    front : List ℕ
    front = range_with_len 0 (s - 52)

    by_end : (s % 52 ≡ 0) ⊎ (s % 52 ≢ 0)
        → front ++ filter (is_complete (207 * s)) (range_with_len (s - 52) (s - (s - 52)))
        ≡ range_with_len 0 (back_of_sent s)
    by_end (inl z) = grind (arith, cond-true, eq-eqb, complete_last, range_with_len-parts)
    by_end (inr z) =
        let extra : ℕ = cond (s % 52 == 0) 1 0 in
        let none : extra ≡ 0 = cond-false (s % 52 == 0) 1 0 (ne_eqb (s % 52) 0 z) in
        let many : s - 52 ≡ back_of_sent s = omega (arith, none) in
        ap (λ xs. front ++ xs) (complete_none s (inr z)) ∙ append-nil front ∙ ap (range_with_len 0) many

run_groups : (run : List (List ℤ)) (u : ℕ) → length run ≡ 4 * u + (u + 77) / 78 → groups_of run ≡ u
unfolding groups_of data_count
run_groups run u long = omega (arith, data_all (length run) u long)

-- of a run as long as all segments of a stream
pub numbers_are : (packets : List (List ℕ)) (run : List (List ℤ)) → 4 ≤ length packets
    → length run ≡ length (a53 packets) → numbers_in run ≡ range_with_len 0 (back_of_all (length packets))
unfolding numbers_in
numbers_are packets run some long =
    let u : ℕ = length packets / 4 in
    let words : 828 * u ≡ 207 * (4 * u) = omega arith in
    ap (λ n. filter (is_complete (828 * n)) (range_with_len 0 (4 * n))) (run_groups run u (long ∙ length-a53 packets))
    ∙ ap (λ n. filter (is_complete n) (range_with_len 0 (4 * u))) words ∙ whole_are (4 * u) (omega (arith, some))

-- ---- they are packets of the stream

one_at_most : (t : Bool) → cond t 1 0 ≤ 1
one_at_most true = omega arith
one_at_most false = omega arith

pub back_within : (count : ℕ) → 4 ≤ count → back_of_all count ≤ count
back_within count some = grind (arith, one_at_most)

-- ---- and their bytes

first_packets : (packets : List (List ℕ)) (n : ℕ) → n ≤ length packets
    → take n packets ≡ map (λ k. get_or packets k []) (range_with_len 0 n)
first_packets packets n within =
    fill_by_all (λ k. get_or packets k []) (take n packets) n [] (length-take-le n packets within)
    (λ k l. get_or-take n packets k [] l)

pub bytes_back : (packets : List (List ℕ)) → 4 ≤ length packets
    → flat_map (λ k. as_received (get_or packets k [])) (range_with_len 0 (back_of_all (length packets)))
    ≡ packets_back packets
bytes_back packets some = grind (arith, first_packets, back_within, flat_map-map)
