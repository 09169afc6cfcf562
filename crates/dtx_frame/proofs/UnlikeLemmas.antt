-- A data segment is unlike a field sync.
use Rattle.std.proofs.Common.{◌≡◌, ℕ, ◌+◌, ◌-◌, ◌*◌, ◌/◌, ◌%◌, ◌<◌, ◌≤◌, ◌⊎◌, ◌==◌, Bool, true, false, cond, leb, ℤ}
use Rattle.std.proofs.Common.{pos, List, map, take, drop, sum, length, length-drop, get_or, refl, sym, ap, ap₂, ◌∙◌}
use Rattle.std.proofs.Common.{subst, arith}
use Rattle.std.specs.List.{range_with_len}
use Rattle.std.proofs.lemmas.Bool.{eqb-true, eq-eqb, lt-leb, leb-true}
use Rattle.std.proofs.lemmas.List.{get_or-take, get_or-drop, length-take-le}
use Rattle.std.proofs.lemmas.List.FromFn.{get_or-map-range_with_len, length-map-range_with_len}
use Rattle.dtx_lists.proofs.Below.{holds_below}
use Rattle.dtx_trellis.specs.Trellis.{groups}
use Rattle.dtx_trellis.specs.Groups.{level_at, levels_of}
use Rattle.dtx_trellis.proofs.JoinsLemmas.{groups_whole}
use Rattle.dtx_slice.specs.Slicing.{sliced}
use Rattle.dtx_frame.specs.declared.tables.TheConstants.{FIRST}
use Rattle.dtx_frame.specs.Segments.{pn511, data_segment, sync_symbols}
use Rattle.dtx_frame.specs.Detection.{differs, differing, looks_like}
use Rattle.dtx_frame.proofs.SymbolsLemmas.{first_is}
use Rattle.dtx_frame.proofs.RecurrencesLemmas.{bit_511, long_at, table_511, table_bits}
use Rattle.dtx_frame.proofs.CountsLemmas.{total, sum_is, part, total_shift}
use Rattle.dtx_frame.proofs.SlicesLemmas.{data_at}
use Rattle.dtx_frame.proofs.WindowsLemmas.{a_third, window}
use Rattle.dtx_frame.proofs.RuleLemmas.{rule, level_at_small}

-- a bit's level in a field sync
abbrev is_level : List ℕ → ℕ → Bool
is_level s p = sliced (get_or FIRST (4 + p) (pos 0)) == 5 * get_or s p 0 + 1

levels_test : holds_below (is_level (table_bits 4 511)) 511 ≡ true
unfolding sliced
levels_test = refl

sync_at : (p : ℕ) → p < 511 → sliced (get_or (sync_symbols false) (4 + p) (pos 0)) ≡ 5 * get_or pn511 p 0 + 1
sync_at p l = ap (λ (xs : List ℤ). sliced (get_or xs (4 + p) (pos 0))) (sym first_is)
    ∙ eqb-true (sliced (get_or FIRST (4 + p) (pos 0))) (5 * get_or pn511 p 0 + 1) (long_at is_level 511 p levels_test l)

-- 1 where a sequence breaks the rule of the coders
abbrev breaks_in : List ℕ → ℕ → ℕ
breaks_in s p = cond (get_or s p 0 == (get_or s (p - 12) 0 + get_or s (p - 24) 0) % 2) 0 1

-- where the long one does
breaks : ℕ → ℕ
breaks = breaks_in pn511

table_broken : leb 192 (total (breaks_in (table_bits 4 511)) 24 487) ≡ true
table_broken = refl

many_broken : leb 192 (total breaks 24 487) ≡ true
unfolding breaks
many_broken = ap (λ s. leb 192 (total (breaks_in s) 24 487)) (sym table_511) ∙ table_broken

breaks_at_most : (p : ℕ) → breaks p ≤ 1
unfolding breaks
breaks_at_most p = grind arith

breaks_not : (p : ℕ) → get_or pn511 p 0 ≡ (get_or pn511 (p - 12) 0 + get_or pn511 (p - 24) 0) % 2 → breaks p ≡ 0
unfolding breaks
breaks_not p e = grind (arith, eq-eqb)

-- the levels of one segment of a coder's
pub record Keeps (levels : List ℕ) : Type 0 where
  pub long : length levels ≡ 828
  pub small : (p : ℕ) → p < 828 → get_or levels p 0 < 8
  pub rule : (p : ℕ) → 24 ≤ p → p < 828
      → get_or levels p 0 % 2 ≡ (get_or levels (p - 12) 0 / 2 % 2 + get_or levels (p - 24) 0 % 2) % 2

-- whether the data symbol at p differs from the sync's
abbrev other : List ℕ → ℕ → ℕ
other levels p = differs (data_segment levels) (4 + p)

differs_at : (levels : List ℕ) (p : ℕ) → Keeps levels → p < 511 → (get_or levels p 0 ≡ 5 * get_or pn511 p 0 + 1)
    ⊎ (other levels p ≡ 1)
unfolding differs
differs_at levels p k l = grind (arith, data_at, sync_at, eqb-true)

covered : (levels : List ℕ) (p : ℕ) → Keeps levels → 24 ≤ p → p < 511
    → breaks p ≤ other levels p + other levels (p - 12) + other levels (p - 24)
covered levels p k h l = grind (arith, differs_at, breaks, breaks_not, window, bit_511, breaks_at_most)

unlike_sync : (levels : List ℕ) → Keeps levels → 64 ≤ differing (data_segment levels)
unfolding differing
unlike_sync levels k =
    bound (total breaks 24 487) (total (other levels) 0 511) (total (differs (data_segment levels)) 4 511)
    (total (differs (data_segment levels)) 0 515) (sum (map (differs (data_segment levels)) (range_with_len 0 515)))
    (leb-true 192 (total breaks 24 487) many_broken) (a_third breaks (other levels) (λ p h l. covered levels p k h l))
    (total_shift (differs (data_segment levels)) 4 0 511) (part (differs (data_segment levels)) 4 511 515 (omega arith))
    (sum_is (differs (data_segment levels)) 0 515)
  where
    bound : (n d e w x : ℕ) → 192 ≤ n → n ≤ 3 * d → e ≡ d → e ≤ w → x ≡ w → 64 ≤ x
    bound n d e w x h j k l m = omega arith

-- segment n of whole groups
abbrev pub segment_levels : ℕ → List ℕ → List ℕ → ℕ → List ℕ
segment_levels s states bytes n = take (828 * n + 828 - 828 * n) (drop (828 * n) (levels_of s states bytes))

level_of_segment : (s n p : ℕ) (states bytes : List ℕ) → n < 4 * groups bytes → p < 828
    → get_or (segment_levels s states bytes n) p 0 ≡ level_at s states bytes (828 * n + p)
unfolding levels_of
level_of_segment s n p states bytes h l = grind (arith, get_or-take, get_or-drop, get_or-map-range_with_len)

length_of_segment : (s n : ℕ) (states bytes : List ℕ) → n < 4 * groups bytes
    → length (segment_levels s states bytes n) ≡ 828
unfolding levels_of
length_of_segment s n states bytes h = grind (arith, length-map-range_with_len, length-take-le, length-drop)

keeps : (s n : ℕ) (states bytes : List ℕ) → n < 4 * groups bytes → Keeps (segment_levels s states bytes n)
keeps s n states bytes h = record {
  long = length_of_segment s n states bytes h;
  small = λ p l. subst (λ x. x < 8) (sym (level_of_segment s n p states bytes h l))
      (level_at_small s (828 * n + p) states bytes (omega arith));
  rule = λ p l m.
      ap (λ x. x % 2) (level_of_segment s n p states bytes h m) ∙ rule s n p states bytes h l m
      ∙ sym (ap₂ (λ x y. (x / 2 % 2 + y % 2) % 2) (level_of_segment s n (p - 12) states bytes h (omega arith))
      (level_of_segment s n (p - 24) states bytes h (omega arith)));
}

pub unlike_segment : (s u n : ℕ) (states bytes : List ℕ) → length bytes ≡ 828 * u → n < 4 * u
    → 64 ≤ differing (data_segment (segment_levels s states bytes n))
unlike_segment s u n states bytes h l =
    unlike_sync (segment_levels s states bytes n) (keeps s n states bytes (omega (arith, groups_whole u bytes h)))

pub unlike_looks : (s u n : ℕ) (states bytes : List ℕ) → length bytes ≡ 828 * u → n < 4 * u
    → looks_like (data_segment (segment_levels s states bytes n)) ≡ false
unfolding looks_like
unlike_looks s u n states bytes h l = lt-leb (differing (data_segment (segment_levels s states bytes n))) 32
    (omega (arith, unlike_segment s u n states bytes h l))
