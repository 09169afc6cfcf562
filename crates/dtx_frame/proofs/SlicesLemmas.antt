-- Slicing what was sent.
use Rattle.std.proofs.Common.{◌≡◌, ℕ, ◌+◌, ◌-◌, ◌<◌, ◌==◌, Bool, true, ℤ, pos, List, ◌++◌, map, drop, length, get_or}
use Rattle.std.proofs.Common.{refl, sym, ap, ◌∙◌, subst, arith}
use Rattle.std.proofs.Math.Seq.{drop-append_seam, drop-append-add}
use Rattle.std.proofs.lemmas.Bool.{eqb-true}
use Rattle.std.proofs.lemmas.List.{drop-map, ext_get_or, get_or-map, length-map, get_or-append_right}
use Rattle.dtx_lists.proofs.Below.{holds_below, at_below}
use Rattle.dtx_slice.specs.Slicing.{sliced, sliced_data, sliced_last}
use Rattle.dtx_trellis.specs.Trellis.{symbol_of}
use Rattle.dtx_frame.specs.Segments.{data_segment, field_sync, segment_sync, sync_symbols}
use Rattle.dtx_frame.proofs.SymbolsLemmas.{length_front, length_sync}

symbols_test : holds_below (λ z. sliced (symbol_of z) == z) 8 ≡ true
unfolding sliced symbol_of
symbols_test = refl

pub sliced_symbol : (z : ℕ) → z < 8 → sliced (symbol_of z) ≡ z
sliced_symbol z l = eqb-true (sliced (symbol_of z)) z (at_below (λ z. sliced (symbol_of z) == z) 8 z symbols_test l)

-- the levels of a data segment
pub data_at : (levels : List ℕ) (p : ℕ) → p < length levels → get_or levels p 0 < 8
    → sliced (get_or (data_segment levels) (4 + p) (pos 0)) ≡ get_or levels p 0
unfolding data_segment
data_at levels p l m = ap sliced (grind (arith, get_or-append_right, length_sync, back, get_or-map))
    ∙ sliced_symbol (get_or levels p 0) m
  where
    back : (p : ℕ) → 4 + p - 4 ≡ p
    back p = omega arith

map_back : (levels : List ℕ) → ((d : ℕ) → d < length levels → get_or levels d 0 < 8)
    → map sliced (map symbol_of levels) ≡ levels
map_back levels h = ext_get_or 0 (map sliced (map symbol_of levels)) levels (length-map (map symbol_of levels) sliced
    ∙ length-map levels symbol_of) (λ d l. let m : d < length levels = grind (arith, length-map) in
    get_or-map sliced (map symbol_of levels) d (pos 0) 0 (omega (arith, length-map levels symbol_of))
    ∙ ap sliced (get_or-map symbol_of levels d 0 (pos 0) m) ∙ sliced_symbol (get_or levels d 0) (h d m))

pub data_back : (levels : List ℕ) → ((d : ℕ) → d < length levels → get_or levels d 0 < 8)
    → sliced_data (data_segment levels) ≡ levels
unfolding sliced_data data_segment
data_back levels h =
    ap (map sliced) (subst (λ n. drop n (segment_sync ++ map symbol_of levels) ≡ map symbol_of levels) length_sync
    (drop-append_seam segment_sync (map symbol_of levels)))
    ∙ map_back levels h

-- the last levels of a data segment
pub end_back : (levels : List ℕ) → ((d : ℕ) → d < length levels → get_or levels d 0 < 8)
    → sliced_last (data_segment levels) ≡ drop 816 levels
unfolding sliced_last data_segment
end_back levels h = ap (map sliced) (subst (λ n. drop (n + 816) (segment_sync ++ map symbol_of levels)
    ≡ drop 816 (map symbol_of levels)) length_sync (drop-append-add segment_sync (map symbol_of levels) 816))
    ∙ sym (drop-map sliced 816 (map symbol_of levels)) ∙ ap (drop 816) (map_back levels h)

pub last_back : (second : Bool) (last : List ℤ) → sliced_last (field_sync second last) ≡ map sliced last
unfolding sliced_last field_sync
last_back second last = ap (map sliced) (subst (λ n. drop n (sync_symbols second ++ last) ≡ last) (length_front second)
    (drop-append_seam (sync_symbols second) last))
