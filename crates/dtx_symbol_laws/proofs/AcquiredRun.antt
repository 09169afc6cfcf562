-- What is acquired is received as one run, and read back from its file.
use Rattle.std.proofs.Common.{◌≡◌, ◌≢◌, ℕ, ℤ, suc, ◌+◌, ◌-◌, ◌%◌, ◌<◌, inl, inr, Bool, true, List, [], ◌∷◌, length, map}
use Rattle.std.proofs.Common.{get_or, refl, sym, ap, ap₂, ◌∙◌, subst, arith}
use Rattle.std.proofs.lemmas.Bool.{cases_eq}
use Rattle.std.proofs.lemmas.List.{length-append, length-map, take_all}
use Rattle.dtx_trellis.specs.Trellis.{symbol_of}
use Rattle.dtx_frame.proofs.AlikeLemmas.{looks_alike}
use Rattle.dtx_frame.specs.Segments.{bit_symbol, data_segment, field_sync, segment_sync, sync_symbols}
use Rattle.dtx_frame.proofs.SymbolsLemmas as lengths
use Rattle.dtx_coder.proofs.CountsLemmas.{AreSegments}
use Rattle.dtx_receiver.specs.Intervals.{AreRuns, IsRun, looks_at, segments_in}
use Rattle.dtx_receiver.proofs.IntervalsLemmas.{are_runs, only_runs}
use Rattle.dtx_receiver.specs.Runs.{runs}
use Rattle.dtx_acquire.specs.Sent.{AreInFields, AreLevels, IsData, IsSync}
use Rattle.dtx_files.specs.Symbols.{segment_bytes}
use Rattle.dtx_recipes.specs.SymbolFile.{file_segments}
use Rattle.dtx_jobs.proofs.SymbolsBackLemmas.{AreBack, EachBack, IsBack, each_append, level_back, segments_read_back}

-- ---- the run

pub sync_looks : (s : List (List ℤ)) (i : ℕ) → AreInFields s → i < length s → i % 313 ≡ 0 → looks_at s i ≡ true
sync_looks s i h l e = grind (arith, looks_alike)

pub one_run : (s : List (List ℤ)) → AreInFields s → s ≢ [] → runs s ≡ s ∷ []
one_run s h some =
    let run : IsRun s 0 (length s) = record {
      some = not_empty s some;
      within = omega arith;
      syncs = λ j m z. ap (looks_at s) (plus j) ∙ sync_looks s j h m z;
      ends = inl (omega arith);
    } in
    let mine : AreRuns s 0 ((0, length s) ∷ []) =
    (omega arith, λ i a b. absurd (omega (arith, b)), run, λ i a b. absurd (omega (arith, a, b))) in
    (are_runs s).2 ∙ ap (map (segments_in s)) (only_runs s 0 (are_runs s).0 ((0, length s) ∷ []) (are_runs s).1 mine)
    ∙ ap (λ xs. xs ∷ []) (take_all (0 + length s - 0) s (omega arith))
  where
    plus : (n : ℕ) → 0 + n ≡ n
    plus n = omega arith

    not_empty : (s : List (List ℤ)) → s ≢ [] → 0 < length s
    not_empty [] e = absurd (e refl)
    not_empty (x ∷ s) e = omega arith

-- ---- the file

-- the symbols of bits, and of levels
bits_back : (bits : List ℕ) → AreBack (map bit_symbol bits)
unfolding bit_symbol
bits_back [] = tt
bits_back (b ∷ bits) = (one b, bits_back bits)
  where
    one : (b : ℕ) → IsBack (bit_symbol b)
    one b = grind arith

levels_back : (levels : List ℕ) → ((d : ℕ) → d < length levels → get_or levels d 0 < 8) → AreBack (map symbol_of levels)
levels_back [] h = tt
levels_back (z ∷ levels) h = (level_back z (h 0 (omega arith)), levels_back levels (λ d l. h (suc d) (omega arith)))

small_levels : (n : ℕ) (levels : List ℕ) → AreLevels n levels → (d : ℕ) → d < length levels → get_or levels d 0 < 8
small_levels n levels h d l = h.small d (omega (arith, h.long))

data_back : (row : List ℤ) → IsData row → (length row ≡ 832) × AreBack row
unfolding data_segment segment_sync
data_back row h = (
  ap length h.is ∙ length-append segment_sync (map symbol_of h.levels)
      ∙ ap₂ (λ (a b : ℕ). a + b) lengths.length_sync (length-map h.levels symbol_of ∙ h.are.long),
  subst AreBack (sym h.is) (each_append IsBack segment_sync (map symbol_of h.levels) (bits_back (1 ∷ 0 ∷ 0 ∷ 1 ∷ []))
      (levels_back h.levels (small_levels 828 h.levels h.are))),
)

sync_back : (row : List ℤ) → IsSync row → (length row ≡ 832) × AreBack row
unfolding field_sync sync_symbols segment_sync
sync_back row h = (
  ap length h.is ∙ length-append (sync_symbols h.second) (map symbol_of h.last)
      ∙ ap₂ (λ (a b : ℕ). a + b) (lengths.length_front h.second) (length-map h.last symbol_of ∙ h.are.long),
  subst AreBack (sym h.is) (grind (arith, each_append, front, levels_back, small_levels)),
)
  where
    front : (second : Bool) → AreBack (sync_symbols second)
    front second = each_append IsBack segment_sync (map bit_symbol _) (bits_back (1 ∷ 0 ∷ 0 ∷ 1 ∷ [])) (bits_back _)

row_back : (s : List (List ℤ)) → AreInFields s → (i : ℕ) → i < length s
    → (length (get_or s i []) ≡ 832) × AreBack (get_or s i [])
row_back s h i l = elim (cases_eq (i % 313) 0) [
  | inl e ↦ sync_back (get_or s i []) (h.syncs i l e)
  | inr e ↦ data_back (get_or s i []) (h.others i l e)
]

all_long : (s : List (List ℤ)) → ((i : ℕ) → i < length s → (length (get_or s i []) ≡ 832) × AreBack (get_or s i []))
    → AreSegments s
all_long [] h = tt
all_long (x ∷ s) h = ((h 0 (omega arith)).0, all_long s (λ i l. h (suc i) (omega arith)))

all_back : (s : List (List ℤ)) → ((i : ℕ) → i < length s → (length (get_or s i []) ≡ 832) × AreBack (get_or s i []))
    → EachBack s
all_back [] h = tt
all_back (x ∷ s) h = ((h 0 (omega arith)).1, all_back s (λ i l. h (suc i) (omega arith)))

pub fields_read_back : (s : List (List ℤ)) → AreInFields s → file_segments (segment_bytes s) ≡ s
fields_read_back s h = segments_read_back s (all_long s (row_back s h)) (all_back s (row_back s h))
