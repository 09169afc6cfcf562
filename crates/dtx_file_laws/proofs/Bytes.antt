-- A burst, or a gap, of a file's bytes is one of the symbols of its segments.
use Rattle.std.proofs.Common.{◌≡◌, ℕ, ℤ, pos, ◌+◌, ◌*◌, ◌/◌, ◌%◌, ◌<◌, ◌≤◌, ◌⊎◌, inl, inr, Bool, true, false, List, []}
use Rattle.std.proofs.Common.{length, take, drop, get_or, sym, ap, ◌∙◌, subst, arith, min, max}
use Rattle.std.proofs.lemmas.List.{get_or-drop, get_or-map, get_or-take, length-drop, length-take-le}
use Rattle.std.proofs.lemmas.List.FromFn.{get_or-map-range_with_len}
use Rattle.dtx_bursts.specs.Burst as air
use Rattle.dtx_bursts.specs.Burst.{LeavesSyncs, symbol_at, symbol_level}
use Rattle.dtx_coder.specs.Stream.{a53}
use Rattle.dtx_erase.specs.Marks.{is_missing}
use Rattle.dtx_slice.specs.Slicing.{sliced}
use Rattle.dtx_jobs.proofs.StreamBackLemmas.{length-symbol_bytes, stream_read_back}
use Rattle.dtx_recipes.specs.SymbolFile.{file_segments, segment_at, symbol_of_byte, whole_segments, symbol_bytes}
use Rattle.dtx_file_laws.specs.Damaged.{IsBurst, IsGap, SparesSyncs}
use Rattle.dtx_file_laws.proofs.There.{symbol_there}
use Rattle.dtx_file_laws.proofs.Whole.{as_many, count_segments, no_segments}

-- ---- symbols of a file

-- symbol n of its segments is that of byte n
pub symbol_of_file : (file : List ℕ) (n : ℕ) → n < 832 * whole_segments file
    → symbol_at (file_segments file) n ≡ symbol_of_byte (get_or file n 0)
symbol_of_file file n l =
    let i : ℕ = n / 832 in
    let k : ℕ = n % 832 in
    let rest : List ℕ = drop (832 * i) file in
    let long : length (take 832 rest) ≡ 832 = length-take-le 832 rest (omega (arith, length-drop (832 * i) file)) in
    let whole : 832 * i + k ≡ n = omega arith in
    ap (λ (xs : List ℤ). get_or xs k (pos 0))
    (get_or-map-range_with_len (segment_at file) 0 (whole_segments file) i i [] (omega (arith, l)) (omega arith))
    ∙ get_or-map symbol_of_byte (take 832 rest) k 0 (pos 0) (omega (arith, long))
    ∙ ap symbol_of_byte (get_or-take 832 rest k 0 (omega arith) ∙ get_or-drop (832 * i) file k 0
    ∙ ap (λ (m : ℕ). get_or file m 0) whole)

-- and of a stream's own file
symbol_sent : (packets : List (List ℕ)) (n : ℕ) → n < 832 * length (a53 packets)
    → symbol_at (a53 packets) n ≡ symbol_of_byte (get_or (symbol_bytes packets) n 0)
symbol_sent packets n l = ap (λ (segments : List (List ℤ)). symbol_at segments n) (sym (stream_read_back packets))
    ∙ symbol_of_file (symbol_bytes packets) n (grind (arith, count_segments))

-- where the byte is as it was sent, the symbol is
same_symbol : (packets : List (List ℕ)) (file : List ℕ) (n : ℕ) → length file ≡ length (symbol_bytes packets)
    → n < 832 * length (a53 packets) → get_or file n 0 ≡ get_or (symbol_bytes packets) n 0
    → symbol_at (file_segments file) n ≡ symbol_at (a53 packets) n
same_symbol packets file n long l same = grind (arith, symbol_of_file, count_segments, symbol_sent)

same_level : (packets : List (List ℕ)) (file : List ℕ) (n : ℕ) → length file ≡ length (symbol_bytes packets)
    → n < 832 * length (a53 packets) → get_or file n 0 ≡ get_or (symbol_bytes packets) n 0
    → symbol_level (file_segments file) n ≡ symbol_level (a53 packets) n
unfolding symbol_level
same_level packets file n long l same = ap sliced (same_symbol packets file n long l same)

-- ---- a burst

pub burst_of_symbols : (count from : ℕ) (packets : List (List ℕ)) (file : List ℕ)
    → IsBurst count from (symbol_bytes packets) file → air.IsBurst count from (a53 packets) (file_segments file)
burst_of_symbols count from packets file burst = record {
  others = λ n l side. same_level packets file n burst.as_many l
      (burst.others n (omega (arith, l, length-symbol_bytes packets)) side);
}

-- ---- a gap

-- a byte of a gap is missing, or as it was sent
abbrev IsToldAt : ℕ → ℕ → List (List ℕ) → List ℕ → ℕ → Type 0
IsToldAt count from packets file n = (get_or file n 0 ≡ get_or (symbol_bytes packets) n 0)
    ⊎ ((get_or file n 0 ≡ 0x80) × (from ≤ n) × (n < from + count))

missing_byte : (packets : List (List ℕ)) (file : List ℕ) (n : ℕ) → length file ≡ length (symbol_bytes packets)
    → n < 832 * length (a53 packets) → get_or file n 0 ≡ 0x80 → is_missing (symbol_at (file_segments file) n) ≡ true
missing_byte packets file n long l missing = grind (arith, symbol_of_file, count_segments)

there_by : (count from : ℕ) (packets : List (List ℕ)) (file : List ℕ) (n : ℕ)
    → length file ≡ length (symbol_bytes packets) → n < 832 * length (a53 packets) → IsToldAt count from packets file n
    → (is_missing (symbol_at (file_segments file) n) ≡ true)
    ⊎ (symbol_level (file_segments file) n ≡ symbol_level (a53 packets) n)
there_by count from packets file n long l (inl same) = inr (same_level packets file n long l same)
there_by count from packets file n long l (inr gone) = inl (missing_byte packets file n long l gone.0)

never_both : (t : Bool) → t ≡ true → t ≡ false → ⊥
never_both true a b = cc
never_both false a b = cc

within_by : (count from : ℕ) (packets : List (List ℕ)) (file : List ℕ) (n : ℕ)
    → length file ≡ length (symbol_bytes packets) → n < 832 * length (a53 packets)
    → is_missing (symbol_at (file_segments file) n) ≡ true → IsToldAt count from packets file n
    → (from ≤ n) × (n < from + count)
within_by count from packets file n long l missing (inl same) =
    absurd (never_both (is_missing (symbol_at (file_segments file) n)) missing
    (ap is_missing (same_symbol packets file n long l same) ∙ symbol_there packets n))
within_by count from packets file n long l missing (inr gone) = (gone.1, gone.2)

pub gap_of_symbols : (count from : ℕ) (packets : List (List ℕ)) (file : List ℕ)
    → IsGap count from (symbol_bytes packets) file → air.IsGap count from (a53 packets) (file_segments file)
gap_of_symbols count from packets file gap = record {
  there = λ n l. there_by count from packets file n gap.as_many l
      (gap.others n (omega (arith, l, length-symbol_bytes packets)));
  missing = λ n l missing. within_by count from packets file n gap.as_many l missing
      (gap.others n (omega (arith, l, length-symbol_bytes packets)));
}

-- ---- field syncs

pub syncs_left : (count from : ℕ) (packets : List (List ℕ)) (file : List ℕ)
    → length file ≡ length (symbol_bytes packets) → SparesSyncs count from (length file)
    → LeavesSyncs 0 count from (length (a53 packets))
syncs_left count from packets file long spares = record {
  behind = subst (λ n. 832 * n ≤ from) (sym no_segments) (omega arith);
  few = λ i l z. few i l z;
}
  where
    few : (i : ℕ) → i < length (a53 packets) → (0 + i) % 313 ≡ 0
        → min (from + count) (832 * i + 515) ≤ max from (832 * i) + 32
    few i l z =
        let f : ℕ = i / 313 in
        let place : 260416 * f ≡ 832 * i = omega (arith, z) in
        subst (λ n. min (from + count) (n + 515) ≤ max from n + 32) place (spares f (grind (arith, as_many)))
