-- The segments of a stream are acquired of symbols that lie near its own.
use Rattle.std.proofs.Common.{◌≡◌, ◌≢◌, ℕ, ℤ, zero, suc, ◌+◌, ◌-◌, ◌*◌, ◌/◌, ◌%◌, ◌<◌, ◌==◌, nat_le, nat_lt, true, List}
use Rattle.std.proofs.Common.{[], ◌++◌, length, map, take, drop, get_or, replicate, flat_map, pos, refl, sym, ap, ◌∙◌}
use Rattle.std.proofs.Common.{subst, arith}
use Rattle.std.proofs.Math.Seq.{drop-append-add}
use Rattle.std.proofs.lemmas.Bool.{cond-false, ltb-true, ne_eqb}
use Rattle.std.proofs.lemmas.List.{drop-map, get_or-drop, get_or-take, length-drop, length-take, length-take-le}
use Rattle.std.proofs.lemmas.List.{take-take}
use Rattle.dtx_lists.proofs.Below.{at_below, holds_below}
use Rattle.dtx_trellis.specs.Trellis.{symbol_of}
use Rattle.dtx_frame.specs.Segments.{data_segment, field_sync, segment_sync}
use Rattle.dtx_frame.proofs.SymbolsLemmas.{length_sync}
use Rattle.dtx_coder.proofs.CountsLemmas.{length-a53}
use Rattle.dtx_coder.proofs.LevelsLemmas.{length-levels}
use Rattle.dtx_coder.proofs.SegmentsLemmas.{segment_is}
use Rattle.dtx_coder.specs.Stream.{a53, a53_symbols, last_before, last_of, levels, no_last, segment}
use Rattle.dtx_chain.proofs.LevelsLemmas.{level_small}
use Rattle.dtx_chain.proofs.PlacesLemmas.{data_at_place, sync_at}
use Rattle.dtx_soft.specs.Coders.{coder_symbols}
use Rattle.dtx_soft.specs.Softened.{IsOwn}
use Rattle.dtx_acquire.specs.Acquired as acquired
use Rattle.dtx_acquire.specs.Sent.{AreInFields, AreLevels, AreNear, AreSent, IsData, IsSync, groups_behind}
use Rattle.dtx_recipes.specs.Soft.{in_groups}
use Rattle.dtx_symbol_laws.proofs.SoftStream.{TakesPaths, field_own}

-- ---- data segments

part_levels : (ps : List (List ℕ)) (k : ℕ) → k < 4 * (length ps / 4)
    → AreLevels 828 (take 828 (drop (828 * k) (levels ps)))
part_levels ps k l = record {
  long = long;
  small = λ d m.
      subst (λ z. z < 8) (sym (get_or-take 828 (drop (828 * k) (levels ps)) d 0 m
      ∙ get_or-drop (828 * k) (levels ps) d 0)) (level_small ps (828 * k + d) (omega (arith, m, l, length-levels ps)));
}
  where
    long : length (take 828 (drop (828 * k) (levels ps))) ≡ 828
    long = length-take-le 828 (drop (828 * k) (levels ps)) (grind (arith, length-levels, length-drop))

data_is : (ps : List (List ℕ)) (i : ℕ) → i < length (a53 ps) → i % 313 ≢ 0 → IsData (get_or (a53 ps) i [])
data_is ps i l e = at_place (312 * (i / 313) + (i % 313 - 1)) (place (i % 313) refl e) within
  where
    place : (n : ℕ) → i % 313 ≡ n → n ≢ 0
        → 312 * (i / 313) + (i % 313 - 1) + (312 * (i / 313) + (i % 313 - 1)) / 312 + 1 ≡ i
    place zero f e = absurd (e refl)
    place (suc n) f e = omega (arith, f)

    some : (n : ℕ) → i % 313 ≡ n → n ≢ 0 → 0 < n
    some zero f e = absurd (e refl)
    some (suc n) f e = omega arith

    within : 312 * (i / 313) + (i % 313 - 1) < 4 * (length ps / 4)
    within = (let more = some (i % 313) refl e in omega (arith, l, length-a53 ps, more))

    at_place : (k : ℕ) → k + k / 312 + 1 ≡ i → k < 4 * (length ps / 4) → IsData (get_or (a53 ps) i [])
    at_place k f m = grind (arith, part_levels, data_at_place, segment_is)

-- ---- field syncs

-- the last symbols of a data segment
data_last : (zs : List ℕ) → drop 820 (data_segment zs) ≡ map symbol_of (drop 816 zs)
unfolding data_segment
data_last zs = ap (λ n. drop (n + 816) (segment_sync ++ map symbol_of zs)) (sym length_sync)
    ∙ drop-append-add segment_sync (map symbol_of zs) 816 ∙ drop-map symbol_of 816 zs

zeros_test : holds_below (λ d. nat_lt (get_or (replicate 12 0) d 0) 8) 12 ≡ true
zeros_test = refl

record HasLast (symbols : List ℤ) : Type 0 where
  last : List ℕ
  are : AreLevels 12 last
  same : symbols ≡ map symbol_of last

last_levels : (ps : List (List ℕ)) (u : ℕ) → u < length ps / 4 → HasLast (last_before ps u)
unfolding last_before no_last last_of symbol_of
last_levels ps zero l = record {
  last = replicate 12 0;
  are = record {
    long = refl;
    small = λ d m. ltb-true (get_or (replicate 12 0) d 0) 8 (grind (arith, at_below, zeros_test));
  };
  same = refl;
}
last_levels ps (suc u) l = by_segment (4 * suc u - 1) (omega arith) refl
  where
    by_segment : (k : ℕ) → k < 4 * (length ps / 4) → 4 * suc u - 1 ≡ k → HasLast (last_before ps (suc u))
    by_segment k m e =
        let are = part_levels ps k m in
        record {
          last = drop 816 (take 828 (drop (828 * k) (levels ps)));
          are = record {
            long = length-drop 816 (take 828 (drop (828 * k) (levels ps))) ∙ omega (arith, are.long);
            small = λ d n.
                subst (λ z. z < 8) (sym (get_or-drop 816 (take 828 (drop (828 * k) (levels ps))) d 0))
                (are.small (816 + d) (omega arith));
          };
          same = cond-false (suc u == 0) no_last (drop 820 (segment (levels ps) (4 * suc u - 1)))
              (ne_eqb (suc u) 0 (λ z. omega (arith, z)))
              ∙ ap (λ n. drop 820 (segment (levels ps) n)) e ∙ ap (drop 820) (segment_is (levels ps) k)
              ∙ data_last (take 828 (drop (828 * k) (levels ps)));
        }

sync_is : (ps : List (List ℕ)) (n : ℕ) → n < length (a53 ps) → n % 313 ≡ 0 → IsSync (get_or (a53 ps) n [])
sync_is ps n l z =
    let there : n ≡ 4 * (78 * (n / 313)) + (78 * (n / 313) + 77) / 78 = omega (arith, z) in
    let within : 78 * (n / 313) < length ps / 4 = omega (arith, z, l, length-a53 ps) in
    let last = last_levels ps (78 * (n / 313)) within in
    record {
      second = nat_le 312 (4 * (78 * (n / 313)) % 624);
      last = last.last;
      are = last.are;
      is = ap (λ i. get_or (a53 ps) i []) there ∙ sync_at ps (78 * (n / 313)) within (omega arith)
          ∙ ap (field_sync (nat_le 312 (4 * (78 * (n / 313)) % 624))) last.same;
    }

-- ---- all of them

groups_same : (s : List (List ℤ)) (n : ℕ) → in_groups s (n + 1) ≡ groups_behind s n
unfolding in_groups groups_behind acquired.in_groups
groups_same s n = ap (λ k. take (4 * (k / 4)) (drop (n + 1) s))
    (omega (arith, length-take 312 (drop (n + 1) s), length-drop (n + 1) s))
    ∙ sym (take-take (4 * (length (take 312 (drop (n + 1) s)) / 4)) 312 (drop (n + 1) s)
    (omega (arith, length-take 312 (drop (n + 1) s))))

pub fields_sent : (ps : List (List ℕ)) → AreInFields (a53 ps)
fields_sent ps = record { syncs = sync_is ps; others = data_is ps }

stream_sent : TakesPaths → (ps : List (List ℕ)) → AreSent (a53 ps)
stream_sent takes ps = record {
  segments_are = fields_sent ps;
  paths = λ f e l m.
      subst (λ (s : List (List ℤ)). IsOwn 1 (coder_symbols s e)) (groups_same (a53 ps) (313 * f))
      (field_own takes ps f e (omega arith) m);
}

-- that what was sent is acquired of symbols near it
abbrev pub MovesNothing : Type 0
MovesNothing = (scale : ℕ) (sent : List (List ℤ)) (symbols : List ℤ) → 0 < scale → AreSent sent
    → AreNear scale (flat_map (λ (segment : List ℤ). segment) sent) symbols → acquired.acquired scale symbols ≡ sent

pub stream_acquired : TakesPaths → MovesNothing → (scale : ℕ) (ps : List (List ℕ)) (symbols : List ℤ) → 0 < scale
    → AreNear scale (a53_symbols ps) symbols → acquired.acquired scale symbols ≡ a53 ps
unfolding a53_symbols
stream_acquired takes moves scale ps symbols l near = moves scale (a53 ps) symbols l (stream_sent takes ps) near

-- and of such symbols behind zeros
abbrev pub SilenceMovesNothing : Type 0
SilenceMovesNothing = (scale zeros : ℕ) (sent : List (List ℤ)) (symbols : List ℤ) → 0 < scale → AreSent sent
    → AreNear scale (flat_map (λ (segment : List ℤ). segment) sent) symbols
    → acquired.acquired scale (replicate zeros (pos 0) ++ symbols) ≡ sent

pub behind_zeros_acquired : TakesPaths → SilenceMovesNothing → (scale zeros : ℕ) (ps : List (List ℕ)) (symbols : List ℤ)
    → 0 < scale → AreNear scale (a53_symbols ps) symbols
    → acquired.acquired scale (replicate zeros (pos 0) ++ symbols) ≡ a53 ps
unfolding a53_symbols
behind_zeros_acquired takes moves scale zeros ps symbols l near =
    moves scale zeros (a53 ps) symbols l (stream_sent takes ps) near
