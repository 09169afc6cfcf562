-- Where the segments of a stream stand, and that they are one run.
use Rattle.std.proofs.Common.{◌≡◌, ◌≢◌, ℕ, ℤ, Bool, zero, suc, ◌+◌, ◌-◌, ◌*◌, ◌/◌, ◌%◌, ◌<◌, ◌≤◌, ◌⊎◌, nat_le, true}
use Rattle.std.proofs.Common.{List, [], ◌∷◌, ◌++◌, length, map, get_or, refl, sym, ap, ap₂, ◌∙◌, inl, inr, arith}
use Rattle.std.proofs.Common.{zero-add}
use Rattle.std.specs.List.{range_with_len, flat_map}
use Rattle.std.proofs.lemmas.Bool.{cases_eq, cond-true, cond-false, eq-eqb, ne_eqb}
use Rattle.std.proofs.lemmas.List.{append-nil, length-append, take_all, get_or_append_left, get_or-append_right}
use Rattle.std.proofs.lemmas.List.FromFn.{length-map-range_with_len, get_or-map-range_with_len}
use Rattle.std.proofs.lemmas.Grind.{flat_map-append}
use Rattle.dtx_lists.proofs.Range.{range_with_len-parts}
use Rattle.dtx_frame.specs.Segments.{field_sync}
use Rattle.dtx_frame.proofs.AlikeLemmas.{looks_alike}
use Rattle.dtx_coder.specs.Stream.{levels, segment, four_segments, last_before, sync_before, group_segments, a53}
use Rattle.dtx_coder.proofs.CountsLemmas.{length-a53}
use Rattle.dtx_receiver.specs.Runs.{runs}
use Rattle.dtx_receiver.specs.Intervals.{looks_at, IsRun, AreRuns, segments_in}
use Rattle.dtx_receiver.proofs.IntervalsLemmas.{are_runs, only_runs}

-- element j of part u of lists that stand one behind the other
part_at : {X : Type 0} (f : ℕ → List X) (n u j : ℕ) (d : X) → u < n → j < length (f u)
    → get_or (flat_map f (range_with_len 0 n)) (length (flat_map f (range_with_len 0 u)) + j) d ≡ get_or (f u) j d
part_at {X = X} f n u j d l m =
    let before : List X = flat_map f (range_with_len 0 u) in
    let rest : List X = flat_map f (range_with_len (u + 1) (n - u - 1)) in
    ap (λ xs. get_or xs (length before + j) d) (ap (λ i. flat_map f (range_with_len 0 i)) (omega arith)
    ∙ ap (flat_map f) (range_with_len-parts 0 u (suc (n - u - 1))
    ∙ ap (λ a. range_with_len 0 u ++ range_with_len a (suc (n - u - 1))) (omega arith))
    ∙ flat_map-append f (range_with_len 0 u) (range_with_len u (suc (n - u - 1))))
    ∙ get_or-append_right before (f u ++ rest) (length before) (length before + j) d refl (omega arith)
    ∙ ap (λ i. get_or (f u ++ rest) i d) (omega arith) ∙ get_or_append_left (f u) rest d j m

-- a field sync stands before a group that begins a field, and before no other
sync_there : (ps : List (List ℕ)) (u : ℕ) → 4 * u % 312 ≡ 0
    → sync_before ps u ≡ field_sync (nat_le 312 (4 * u % 624)) (last_before ps u) ∷ []
unfolding sync_before
sync_there ps u z = grind (arith, cond-true, eq-eqb)

sync_absent : (ps : List (List ℕ)) (u : ℕ) → 4 * u % 312 ≢ 0 → sync_before ps u ≡ []
unfolding sync_before
sync_absent ps u z = grind (arith, cond-false, ne_eqb)

length-group : (ps : List (List ℕ)) (u : ℕ) → length (group_segments ps u) ≡ length (sync_before ps u) + 4
unfolding group_segments four_segments
length-group ps u = grind (arith, length-append, length-map-range_with_len)

length-before : (ps : List (List ℕ)) (u : ℕ) → length (flat_map (group_segments ps) (range_with_len 0 u))
    ≡ 4 * u + (u + 77) / 78
length-before ps zero = refl
length-before ps (suc u) =
    ap (λ n. length (flat_map (group_segments ps) (range_with_len 0 n))) (let e : suc u ≡ u + 1 = omega arith in e)
    ∙ ap (λ ns. length (flat_map (group_segments ps) ns)) (grind (arith, range_with_len-parts, zero-add))
    ∙ ap length (flat_map-append (group_segments ps) (range_with_len 0 u) (u ∷ []))
    ∙ length-append (flat_map (group_segments ps) (range_with_len 0 u)) (group_segments ps u ++ [])
    ∙ ap₂ (λ (x y : ℕ). x + y) (length-before ps u) (ap length (append-nil (group_segments ps u)) ∙ length-group ps u)
    ∙ by_sync (cases_eq (4 * u % 312) 0)
  where
    by_sync : (4 * u % 312 ≡ 0) ⊎ (4 * u % 312 ≢ 0)
        → 4 * u + (u + 77) / 78 + (length (sync_before ps u) + 4) ≡ 4 * suc u + (suc u + 77) / 78
    by_sync (inl z) = omega (arith, z, ap length (sync_there ps u z))
    by_sync (inr z) = omega (arith, z, ap length (sync_absent ps u z))

-- ---- field syncs

pub sync_at : (ps : List (List ℕ)) (u : ℕ) → u < length ps / 4 → 4 * u % 312 ≡ 0
    → get_or (a53 ps) (4 * u + (u + 77) / 78) [] ≡ field_sync (nat_le 312 (4 * u % 624)) (last_before ps u)
unfolding a53 group_segments
sync_at ps u l z = ap (λ i. get_or (a53 ps) i []) (omega arith ∙ ap (λ n. n + 0) (sym (length-before ps u)))
    ∙ part_at (group_segments ps) (length ps / 4) u 0 [] l (omega (arith, length-group ps u))
    ∙ ap (λ xs. get_or (xs ++ four_segments (levels ps) (4 * u)) 0 []) (sync_there ps u z)

-- ---- data segments

pub data_at_place : (ps : List (List ℕ)) (d : ℕ) → d < 4 * (length ps / 4)
    → get_or (a53 ps) (d + d / 312 + 1) [] ≡ segment (levels ps) d
unfolding a53 group_segments four_segments
data_at_place ps d l = ap (λ i. get_or (a53 ps) i []) (grind (arith, by_sync, cases_eq, length-before))
    ∙ part_at (group_segments ps) (length ps / 4) (d / 4) (length (sync_before ps (d / 4)) + d % 4) [] (omega arith)
    (omega (arith, length-group ps (d / 4)))
    ∙ get_or-append_right (sync_before ps (d / 4)) (map (segment (levels ps)) (range_with_len (4 * (d / 4)) 4))
    (length (sync_before ps (d / 4))) (length (sync_before ps (d / 4)) + d % 4) [] refl (omega arith)
    ∙ get_or-map-range_with_len (segment (levels ps)) (4 * (d / 4)) 4
    (length (sync_before ps (d / 4)) + d % 4 - length (sync_before ps (d / 4))) d [] (omega arith) (omega arith)
  where
    by_sync : (4 * (d / 4) % 312 ≡ 0) ⊎ (4 * (d / 4) % 312 ≢ 0)
        → d + d / 312 + 1 ≡ 4 * (d / 4) + (d / 4 + 77) / 78 + (length (sync_before ps (d / 4)) + d % 4)
    by_sync (inl z) = omega (arith, z, ap length (sync_there ps (d / 4) z))
    by_sync (inr z) = omega (arith, z, ap length (sync_absent ps (d / 4) z))

-- ---- one run

-- each 313th segment is a field sync
pub sync_at_place : (ps : List (List ℕ)) (n : ℕ) → n < length (a53 ps) → n % 313 ≡ 0
    → (second : Bool) × (last : List ℤ) × (get_or (a53 ps) n [] ≡ field_sync second last)
sync_at_place ps n l z =
    let within : 78 * (n / 313) < length ps / 4 = omega (arith, z, l, length-a53 ps) in (
      nat_le 312 (4 * (78 * (n / 313)) % 624),
      last_before ps (78 * (n / 313)),
      ap (λ i. get_or (a53 ps) i []) (omega (arith, z)) ∙ sync_at ps (78 * (n / 313)) within (omega arith),
    )

pub syncs_look : (ps : List (List ℕ)) (j : ℕ) → j < length (a53 ps) → j % 313 ≡ 0 → looks_at (a53 ps) j ≡ true
syncs_look ps j l z = grind (arith, sync_at_place, looks_alike)

pub one_run : (ps : List (List ℕ)) → 4 ≤ length ps → runs (a53 ps) ≡ a53 ps ∷ []
one_run ps l =
    let some : 0 < length (a53 ps) = omega (arith, l, length-a53 ps) in
    let run : IsRun (a53 ps) 0 (length (a53 ps)) = grind (arith, syncs_look) in
    let mine : AreRuns (a53 ps) 0 ((0, length (a53 ps)) ∷ []) =
    (omega arith, λ i a b. absurd (omega (arith, b)), run, λ i a b. absurd (omega (arith, a, b))) in
    (are_runs (a53 ps)).2
    ∙ ap (map (segments_in (a53 ps))) (only_runs (a53 ps) 0 (are_runs (a53 ps)).0 ((0, length (a53 ps)) ∷ [])
    (are_runs (a53 ps)).1 mine) ∙ ap (λ xs. xs ∷ []) (take_all (0 + length (a53 ps) - 0) (a53 ps) (omega arith))
