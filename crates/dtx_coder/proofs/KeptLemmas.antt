-- How many segments a group has, and what stays of a coder's parts.
use Rattle.std.proofs.Common.{◌≡◌, ℕ, ◌-◌, ◌*◌, ◌<◌, cond, Bool, true, false, ℤ, List, [], ◌∷◌, length, map, get_or}
use Rattle.std.proofs.Common.{sym, ap, subst, ◌∙◌, arith, length-append, length-drop}
use Rattle.std.specs.List.{range_with_len}
use Rattle.std.proofs.lemmas.List.FromFn.{length-map-range_with_len, get_or-map-range_with_len}
use Rattle.dtx_laws.specs.Branches.{HasWidths, spreading}
use Rattle.dtx_laws.proofs.InterleavingLemmas.{HasWidths-all}
use Rattle.dtx_frame.specs.Segments.{field_sync}
use Rattle.dtx_frame.proofs.SymbolsLemmas.{length_front}
use Rattle.dtx_trellis.specs.Trellis.{AreBits, State, number_of, groups}
use Rattle.dtx_trellis.specs.Groups.{coder_after, states_after}
use Rattle.dtx_trellis.proofs.RoundsLemmas.{coder_bits}
use Rattle.dtx_coder.specs.Stream.{coded_from, segment, four_segments, last_of}
use Rattle.dtx_coder.specs.Groups.{Coding, Group, bytes_of, group_levels, air_segments, after_group}
use Rattle.dtx_coder.specs.Runs.{AreStates}
use Rattle.dtx_coder.proofs.CountsLemmas.{AreSegments, segments_append, segments_map, segment_at}
use Rattle.dtx_coder.proofs.RunsLemmas.{length-group_levels, last_after}
use Rattle.dtx_coder.proofs.SegmentsLemmas.{length-segment}

-- ---- segments

pub length-segments_of : (coder : Coding) (g : Group) → length (air_segments coder g) ≡ cond g.sync 5 4
unfolding air_segments four_segments
length-segments_of coder g = grind (arith, length-append, length-map-range_with_len)

segments_sync : (t second : Bool) (last : List ℤ) → length last ≡ 12
    → AreSegments (cond t (field_sync second last ∷ []) [])
unfolding field_sync
segments_sync true second last e = grind (arith, length-append, length_front)
segments_sync false second last e = tt

segments_group : (coder : Coding) (g : Group) → length g.packets ≡ 4 → length coder.last ≡ 12
    → AreSegments (air_segments coder g)
unfolding air_segments four_segments
segments_group coder g e l =
    grind (arith, segments_append, segments_sync, segments_map, length-segment, length-group_levels)

pub group_segment : (coder : Coding) (g : Group) → length g.packets ≡ 4 → length coder.last ≡ 12
    → (i : ℕ) → i < length (air_segments coder g) → length (get_or (air_segments coder g) i []) ≡ 832
group_segment coder g e l i m = segment_at (air_segments coder g) i (segments_group coder g e l) m

-- ---- a coder's parts

number_small : (q : State) → AreBits q → number_of q < 8
number_small q h = omega (arith, h.q2, h.q1, h.q0)

pub states_are : (s : ℕ) (states bytes : List ℕ) → AreStates (states_after s states bytes)
unfolding states_after
states_are s states bytes =
    let long : length (map number (range_with_len 0 12)) ≡ 12 = length-map-range_with_len number 0 12 in
    record {
      twelve = long;
      small = λ e l. at e (subst (λ (n : ℕ). e < n) long l);
    }
  where
    number : ℕ → ℕ
    number e = number_of (coder_after s states bytes (276 * groups bytes) e)

    at : (e : ℕ) → e < 12 → get_or (map number (range_with_len 0 12)) e 0 < 8
    at e l = subst (λ (n : ℕ). n < 8) (sym (get_or-map-range_with_len number 0 12 e e 0 l (omega arith)))
        (number_small (coder_after s states bytes (276 * groups bytes) e)
        (coder_bits s e (276 * groups bytes) states bytes (omega arith)))

pub states_kept : (coder : Coding) (g : Group) → AreStates (after_group coder g).states
unfolding after_group
states_kept coder g = states_are g.first g.from (bytes_of coder g)

pub last_kept : (coder : Coding) (g : Group) → length g.packets ≡ 4 → length (after_group coder g).last ≡ 12
unfolding last_of
last_kept coder g e = ap length (last_after coder g)
    ∙ length-drop 820 (segment (group_levels coder g) 3)
    ∙ ap (λ (n : ℕ). n - 820) (length-segment (group_levels coder g) 3 (omega (arith, length-group_levels coder g e)))

pub branches_kept : (coder : Coding) (g : Group) → HasWidths 52 (spreading 4) coder.branches
    → HasWidths 52 (spreading 4) (after_group coder g).branches
unfolding after_group
branches_kept coder g w = HasWidths-all 52 (spreading 4) coder.branches (coded_from g.first g.packets) w
