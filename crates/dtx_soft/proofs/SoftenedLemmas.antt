-- Segments that were softened are what the function gives, which is softened; and what that costs.
use Rattle.std.proofs.Common.{◌≡◌, ℕ, ℤ, pos, ◌+◌, ◌-◌, ◌*◌, ◌/◌, ◌%◌, ◌<◌, ◌≤◌, ◌⊎◌, inl, inr, nat_lt, cond, List, []}
use Rattle.std.proofs.Common.{length, map, get_or, refl, sym, ap, ap₂, ◌∙◌, subst, arith}
use Rattle.std.specs.List.{range_with_len}
use Rattle.std.proofs.lemmas.Bool.{cases_lt, cond-true, cond-false, lt-ltb, le-ltb}
use Rattle.std.proofs.lemmas.List.{get_or_past, length-map}
use Rattle.std.proofs.lemmas.List.FromFn.{fill_by_all, get_or-map-range_with_len, length-map-range_with_len}
use Rattle.dtx_lists.proofs.Range.{map-range_same}
use Rattle.dtx_slice.specs.Unrolled.{symbol_place}
use Rattle.dtx_trellis.specs.Trellis.{coder_at}
use Rattle.dtx_soft.specs.Coders.{AreLeast, IsSoftened, KeepsSyncs, coder_symbols, coders_distance, data_symbol}
use Rattle.dtx_soft.specs.Least.{least_levels, least_start}
use Rattle.dtx_soft.proofs.LeastPathLemmas.{least_levels_are, least_path_found}
use Rattle.dtx_soft.specs.Paths.{cost, symbol_at}
use Rattle.dtx_soft.specs.Softened.{least_cost, least_symbols, softened, softened_cost, softened_segment}
use Rattle.dtx_soft.specs.Softened.{softened_symbol}

-- where a data symbol is its coder's
pub own_place : (d : ℕ) → symbol_place 0 (d / 12) (coder_at 0 d) ≡ d
unfolding symbol_place coder_at
own_place d = grind arith

pub coder_small : (d : ℕ) → coder_at 0 d < 12
unfolding coder_at
coder_small d = omega arith

pub coder_is : (t e : ℕ) → e < 12 → coder_at 0 (symbol_place 0 t e) ≡ e
unfolding symbol_place coder_at
coder_is t e l = grind arith

pub round_is : (t e : ℕ) → symbol_place 0 t e / 12 ≡ t
unfolding symbol_place
round_is t e = omega arith

pub length-coder : (segments : List (List ℤ)) (e : ℕ) → length (coder_symbols segments e) ≡ 69 * length segments
unfolding coder_symbols
length-coder segments e = grind (arith, length-map-range_with_len)

-- ---- segments with given symbols of the coders, and the syncs of other segments

-- symbol k of segment i
abbrev pub given_symbol : (ℕ → List ℤ) → List (List ℤ) → ℕ → ℕ → ℤ
given_symbol coders old i k = cond (nat_lt k 4) (get_or (get_or old i []) k (pos 0))
    (get_or (coders (coder_at 0 (828 * i + (k - 4)))) ((828 * i + (k - 4)) / 12) (pos 0))

-- all of them, with 832 symbols each
unfoldable pub given : (ℕ → List ℤ) → List (List ℤ) → List (List ℤ)
given coders old = map (λ i. map (given_symbol coders old i) (range_with_len 0 832)) (range_with_len 0 (length old))

-- the data symbols of segments whose coders have these symbols
pub data_given : (coders : ℕ → List ℤ) (new : List (List ℤ)) (i k : ℕ)
    → ((e : ℕ) → e < 12 → coder_symbols new e ≡ coders e) → i < length new → 4 ≤ k → k < 832
    → get_or (get_or new i []) k (pos 0)
    ≡ get_or (coders (coder_at 0 (828 * i + (k - 4)))) ((828 * i + (k - 4)) / 12) (pos 0)
unfolding data_symbol coder_symbols
data_given coders new i k h l n m = behind_sync (828 * i + (k - 4)) (omega arith) (omega arith) (omega arith)
  where
    behind_sync : (d : ℕ) → d / 828 ≡ i → 4 + d % 828 ≡ k → d < 828 * length new
        → get_or (get_or new i []) k (pos 0) ≡ get_or (coders (coder_at 0 d)) (d / 12) (pos 0)
    behind_sync d e f o = ap₂ (λ j k. get_or (get_or new j []) k (pos 0)) (sym e) (sym f)
        ∙ ap (data_symbol new) (sym (own_place d)) ∙ sym (grind (arith, get_or-map-range_with_len))
        ∙ ap (λ (xs : List ℤ). get_or xs (d / 12) (pos 0)) (h (coder_at 0 d) (coder_small d))

-- no others are so
pub given_is : (coders : ℕ → List ℤ) (old new : List (List ℤ)) → length new ≡ length old → KeepsSyncs old new
    → ((e : ℕ) → e < 12 → coder_symbols new e ≡ coders e)
    → ((i : ℕ) → i < length new → length (get_or new i []) ≡ 832) → new ≡ given coders old
unfolding given
given_is coders old new long syncs h rows =
    fill_by_all (λ i. map (given_symbol coders old i) (range_with_len 0 832)) new (length old) [] long
    (λ i l. fill_by_all (given_symbol coders old i) (get_or new i []) 832 (pos 0) (rows i (omega (arith, l, long)))
    (λ k m. entry i k (omega (arith, l, long)) m (cases_lt k 4)))
  where
    entry : (i k : ℕ) → i < length new → k < 832 → (k < 4) ⊎ (4 ≤ k)
        → get_or (get_or new i []) k (pos 0) ≡ given_symbol coders old i k
    entry i k l m (inl n) = syncs i k n ∙ sym (cond-true (nat_lt k 4) _ _ (lt-ltb k 4 n))
    entry i k l m (inr n) = data_given coders new i k h l n m ∙ sym (cond-false (nat_lt k 4) _ _ (le-ltb k 4 n))

pub length-given : (coders : ℕ → List ℤ) (old : List (List ℤ)) → length (given coders old) ≡ length old
unfolding given
length-given coders old = grind (arith, length-map-range_with_len)

pub given_at : (coders : ℕ → List ℤ) (old : List (List ℤ)) (i k : ℕ) → i < length old → k < 832
    → get_or (get_or (given coders old) i []) k (pos 0) ≡ given_symbol coders old i k
unfolding given
given_at coders old i k l m = ap (λ (row : List ℤ). get_or row k (pos 0))
    (get_or-map-range_with_len (λ i. map (given_symbol coders old i) (range_with_len 0 832)) 0 (length old) i i [] l
    (omega arith))
    ∙ get_or-map-range_with_len (given_symbol coders old i) 0 832 k k (pos 0) m (omega arith)

pub given_syncs : (coders : ℕ → List ℤ) (old : List (List ℤ)) → KeepsSyncs old (given coders old)
given_syncs coders old i k n = elim (cases_lt i (length old)) [
  | inl l ↦ given_at coders old i k l (omega arith) ∙ cond-true (nat_lt k 4) _ _ (lt-ltb k 4 n)
  | inr l ↦ ap (λ (row : List ℤ). get_or row k (pos 0))
      (get_or_past (given coders old) i [] (omega (arith, l, length-given coders old)) ∙ sym (get_or_past old i [] l))
]

pub given_coder : (coders : ℕ → List ℤ) (old : List (List ℤ)) (e : ℕ) → e < 12
    → length (coders e) ≡ 69 * length old → coder_symbols (given coders old) e ≡ coders e
unfolding coder_symbols data_symbol
given_coder coders old e l long = sym (fill_by_all (λ t. data_symbol (given coders old) (symbol_place 0 t e)) (coders e)
    (69 * length (given coders old)) (pos 0) (long ∙ ap (λ n. 69 * n) (sym (length-given coders old)))
    (λ t m. sym (at t (omega (arith, m, length-given coders old)))))
  where
    at : (t : ℕ) → t < 69 * length old
        → data_symbol (given coders old) (symbol_place 0 t e) ≡ get_or (coders e) t (pos 0)
    at t m =
        let round = round_is t e in
        let d = symbol_place 0 t e in
        given_at coders old (d / 828) (4 + d % 828) (omega (arith, round, m)) (omega arith)
        ∙ cond-false (nat_lt (4 + d % 828) 4) _ _ (le-ltb (4 + d % 828) 4 (omega arith))
        ∙ ap (λ d. get_or (coders (coder_at 0 d)) (d / 12) (pos 0)) (omega arith)
        ∙ ap₂ (λ (n r : ℕ). get_or (coders n) r (pos 0)) (coder_is t e l) round

-- ---- segments that were softened

-- the symbols of a least path are those of the function
least_symbols_are : (scale : ℕ) (old : List (List ℤ)) (e : ℕ) (new : List ℤ) → AreLeast scale (coder_symbols old e) new
    → new ≡ least_symbols scale old e
unfolding least_symbols
least_symbols_are scale old e new h = grind (arith, least_levels_are)

least_levels_have : (scale : ℕ) (segments : List (List ℤ)) (e : ℕ)
    → least_symbols scale segments e ≡ map (symbol_at scale) (least_levels scale (coder_symbols segments e))
unfolding least_symbols
least_levels_have scale segments e = refl

softened_given : (scale : ℕ) (segments : List (List ℤ))
    → given (least_symbols scale segments) segments ≡ softened scale segments
unfolding given softened softened_segment softened_symbol
softened_given scale segments = refl

pub softened_is : (scale : ℕ) (old new : List (List ℤ)) → IsSoftened scale old new
    → ((i : ℕ) → i < length new → length (get_or new i []) ≡ 832) → new ≡ softened scale old
softened_is scale old new h rows = given_is (least_symbols scale old) old new h.long h.syncs
    (λ e l. least_symbols_are scale old e (coder_symbols new e) (h.coders e l)) rows
    ∙ softened_given scale old

pub softened_found : (scale : ℕ) (segments : List (List ℤ)) → IsSoftened scale segments (softened scale segments)
softened_found scale segments = subst (IsSoftened scale segments) (softened_given scale segments) (record {
  long = length-given (least_symbols scale segments) segments;
  syncs = given_syncs (least_symbols scale segments) segments;
  coders = λ e l. record {
    start = least_start scale (coder_symbols segments e);
    levels = least_levels scale (coder_symbols segments e);
    least = least_path_found scale (coder_symbols segments e);
    symbols = given_coder (least_symbols scale segments) segments e l (long e) ∙ least e;
  };
})
  where
    least : (e : ℕ) → least_symbols scale segments e
        ≡ map (symbol_at scale) (least_levels scale (coder_symbols segments e))
    least = least_levels_have scale segments

    long : (e : ℕ) → length (least_symbols scale segments e) ≡ 69 * length segments
    long e = ap length (least e) ∙ length-map (least_levels scale (coder_symbols segments e)) (symbol_at scale)
        ∙ (least_path_found scale (coder_symbols segments e)).long ∙ length-coder segments e

-- ---- what it costs

-- how far the symbols are off the given ones is what the least paths cost
pub cost_is : (scale : ℕ) (old new : List (List ℤ)) → IsSoftened scale old new
    → coders_distance old new 12 ≡ softened_cost scale old
unfolding coders_distance softened_cost least_cost cost least_symbols
cost_is scale old new h = grind (arith, map-range_same, least_symbols_are)
