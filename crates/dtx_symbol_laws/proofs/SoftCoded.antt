-- What `soft` makes of the symbol file of a stream.
use Rattle.std.proofs.Common.{◌≡◌, ◌≢◌, ℕ, ℤ, zero, suc, ◌+◌, ◌-◌, ◌*◌, ◌/◌, ◌%◌, ◌<◌, ◌≤◌, List, [], ◌∷◌, length, min}
use Rattle.std.proofs.Common.{refl, sym, ap, ap₂, ◌∙◌, arith}
use Rattle.dtx_packets.specs.Packets.{packets_of, whole_packets}
use Rattle.dtx_coder.proofs.CountsLemmas.{length-a53}
use Rattle.dtx_coder.specs.Stream.{a53, a53_symbols}
use Rattle.dtx_soft.specs.Softened.{softened_cost}
use Rattle.dtx_soft.proofs.SumsLemmas.{over, over_more}
use Rattle.dtx_meaning.specs.Meaning.{Meaning}
use Rattle.dtx_meaning.specs.Status.{done}
use Rattle.dtx_engine.specs.Made.{only, outputs_of}
use Rattle.dtx_engine.specs.Recipe.{meaning_of_file}
use Rattle.dtx_files.specs.Symbols.{segment_bytes}
use Rattle.dtx_forms.specs.Shapes.{segments}
use Rattle.dtx_forms.proofs.FilePacketsLemmas.{length-packets_of}
use Rattle.dtx_recipes.specs.Soft.{count_from, field_sum, has_group, in_groups, place_at, soft_symbols, softening}
use Rattle.dtx_jobs.proofs.StreamBackLemmas.{length-symbol_bytes, stream_read_back}
use Rattle.dtx_recipes.specs.SymbolFile.{whole_segments, symbol_bytes}
use Rattle.dtx_symbol_laws.specs.SoftFields.{kept_of, place_behind}
use Rattle.dtx_symbol_laws.proofs.SoftFields.{count_at, each_field}
use Rattle.dtx_symbol_laws.proofs.SoftFiles.{all_softened}
use Rattle.dtx_symbol_laws.proofs.SoftStays.{KeepsOwn, in_step, stream_costs_nothing, stream_in_step, stream_stays}
use Rattle.dtx_symbol_laws.proofs.SoftStream.{TakesPaths, length-field}

-- ---- fields

place_of : (ps : List (List ℕ)) (i : ℕ) → i < length (a53 ps) → place_at (a53 ps) (0 + i) ≡ place_behind (i % 313)
place_of ps i l = grind (arith, in_step, stream_in_step)

-- a field that is begun has a whole group
some_group : (g f n : ℕ) → n ≡ 4 * g + (g + 77) / 78 → 313 * f + 1 < n
    → min 1 (4 * (min 312 (n - (313 * f + 1)) / 4)) ≡ 1
some_group g f n e l = omega arith

one_field : (ps : List (List ℕ)) (i : ℕ) → i < length (a53 ps) → i % 313 ≡ 1 → count_at has_group (a53 ps) (0 + i) ≡ 1
one_field ps i l e =
    let f : ℕ = i / 313 in
    ap (count_from has_group (a53 ps) (0 + i)) (place_of ps i l ∙ ap place_behind e)
    ∙ ap (λ n. has_group (in_groups (a53 ps) n)) (omega (arith, e)) ∙ ap (min 1) (length-field ps f (omega (arith, l)))
    ∙ some_group (length ps / 4) f (length (a53 ps)) (length-a53 ps) (omega (arith, l))

no_field : (ps : List (List ℕ)) (i : ℕ) → i < length (a53 ps) → i % 313 ≢ 1 → count_at has_group (a53 ps) (0 + i) ≡ 0
no_field ps i l e = grind (arith, place_of)

ones : (n : ℕ) → over (λ _. 1) 0 n ≡ n
ones zero = refl
ones (suc n) =
    let next : suc n ≡ n + 1 = omega arith in
    ap (over (λ _. 1) 0) next ∙ over_more (λ _. 1) 0 n ∙ ap (λ k. k + 1) (ones n) ∙ sym next

begun : (g n : ℕ) → n ≡ 4 * g + (g + 77) / 78 → (n + 311) / 313 ≡ (g + 77) / 78
begun g n e = omega arith

-- there is one for each 78 groups that are begun
pub stream_fields : (ps : List (List ℕ)) → field_sum has_group (a53 ps) (length (a53 ps)) ≡ (length ps / 4 + 77) / 78
unfolding field_sum
stream_fields ps = each_field (count_at has_group (a53 ps)) (λ _. 1) 0 (length (a53 ps)) (λ i l e. one_field ps i l e)
    (λ i l e. no_field ps i l e)
    ∙ ones ((length (a53 ps) + 311) / 313) ∙ begun (length ps / 4) (length (a53 ps)) (length-a53 ps)

-- ---- the file

few : (g n p : ℕ) → n ≡ 4 * g + (g + 77) / 78 → g ≡ p / 4 → p ≤ 624000000 → n ≤ 626000000
few g n p e d l = omega arith

few_segments : (ps : List (List ℕ)) → length ps ≤ 624000000 → whole_segments (symbol_bytes ps) ≤ 626000000
few_segments ps l = grind (arith, length-symbol_bytes, few, length-a53)

none_loose : (ps : List (List ℕ)) → length (symbol_bytes ps) % 832 ≡ 0
none_loose ps = omega (arith, length-symbol_bytes ps)

pub stream_file_stays : TakesPaths → KeepsOwn → (names : List (List ℕ)) (stream : List ℕ)
    → whole_packets stream ≤ 624000000
    → meaning_of_file segments softening names (symbol_bytes (packets_of stream)) ≡ kept_of names stream
unfolding a53_symbols
stream_file_stays takes keeps names stream most =
    let ps : List (List ℕ) = packets_of stream in
    let count : length ps ≡ whole_packets stream = length-packets_of stream in
    let means : List (List ℤ) → ℕ → ℕ → ℕ → List (List ℤ) → Meaning = λ given fields cost loose written. record {
      outcome = done (length given ∷ fields ∷ cost ∷ loose ∷ []);
      outputs = outputs_of names (only (segment_bytes written));
    } in
    all_softened names (symbol_bytes ps) (few_segments ps (omega (arith, count, most)))
    ∙ ap (λ s. means s (field_sum has_group s (length s)) (field_sum (softened_cost 1) s (length s))
    (length (symbol_bytes ps) % 832) (soft_symbols s)) (stream_read_back ps)
    ∙ ap₂ (λ fields cost. means (a53 ps) fields cost (length (symbol_bytes ps) % 832) (soft_symbols (a53 ps)))
    (stream_fields ps ∙ ap (λ n. (n / 4 + 77) / 78) count) (stream_costs_nothing takes keeps ps)
    ∙ ap₂ (λ loose written. means (a53 ps) ((whole_packets stream / 4 + 77) / 78) 0 loose written) (none_loose ps)
    (stream_stays takes keeps ps)
