-- A burst that leaves the field syncs leaves them found.
use Rattle.std.proofs.Common.{◌≡◌, ℕ, ℤ, pos, ◌+◌, ◌-◌, ◌*◌, ◌%◌, ◌<◌, ◌≤◌, ◌==◌, ◌⊎◌, inl, inr, cond, min, true, false}
use Rattle.std.proofs.Common.{Bool, List, [], length, get_or, sym, ap, ◌∙◌, subst, arith}
use Rattle.std.proofs.lemmas.Bool.{cases_lt, le-leb}
use Rattle.dtx_slice.specs.Slicing.{sliced}
use Rattle.dtx_frame.proofs.AlikeLemmas.{none_differ}
use Rattle.dtx_frame.proofs.CountsLemmas.{total, total_zeros, sum_is, part, same_is}
use Rattle.dtx_frame.specs.Detection.{differs, differing, looks_like}
use Rattle.dtx_frame.specs.Segments.{field_sync, sync_symbols}
use Rattle.dtx_chain.specs.Damage.{AreReceived, AreFound, damage_at, damaged_symbols}
use Rattle.dtx_chain.proofs.PlacesLemmas.{sync_at_place}
use Rattle.dtx_chain.proofs.SlightLemmas.{sent_at, sent_within}
use Rattle.dtx_bursts.specs.Burst.{IsBurst, LeavesSyncs, symbol_level}
use Rattle.dtx_bursts.proofs.Counting.{total_rises}

level_in : (xs : List (List ℤ)) (i n : ℕ) → n < 832
    → symbol_level xs (832 * i + n) ≡ sliced (get_or (get_or xs i []) n (pos 0))
unfolding symbol_level
level_in xs i n l = grind arith

-- a symbol off the burst
same_level : (count from : ℕ) (sent got : List (List ℤ)) → IsBurst count from sent got → (i n : ℕ) → i < length sent
    → n < 832 → (832 * i + n < from) ⊎ (from + count ≤ 832 * i + n)
    → sliced (get_or (get_or got i []) n (pos 0)) ≡ sliced (get_or (get_or sent i []) n (pos 0))
same_level count from sent got burst i n l m side =
    sym (level_in got i n m) ∙ burst.others (832 * i + n) (omega (arith, l, m)) side ∙ level_in sent i n m

-- ---- segments before the first field sync

none_damaged : (sent got : List ℤ)
    → ((n : ℕ) → n < 515 → sliced (get_or got n (pos 0)) ≡ sliced (get_or sent n (pos 0)))
    → damaged_symbols sent got ≡ 0
unfolding damaged_symbols damage_at
none_damaged sent got same = sum_is (damage_at sent got) 0 515
    ∙ total_zeros (damage_at sent got) 0 515
    (λ n _ l. same_is (sliced (get_or got n (pos 0))) (sliced (get_or sent n (pos 0))) (same n (omega (arith, l))))

-- ---- field syncs

differs_bit : (x : List ℤ) (n : ℕ) → differs x n ≤ 1
unfolding differs
differs_bit x n = grind arith

differs_as : (x y : List ℤ) (n : ℕ) → sliced (get_or x n (pos 0)) ≡ sliced (get_or y n (pos 0))
    → differs x n ≡ differs y n
unfolding differs
differs_as x y n e = ap {B = ℕ} (λ (z : ℕ). cond (z == sliced (get_or (sync_symbols false) n (pos 0))) 0 1) e

own_symbol : (second : Bool) (last : List ℤ) (n : ℕ) → n < 515 → differs (field_sync second last) n ≡ 0
unfolding differing
own_symbol second last n l = none (differs (field_sync second last) n) (total (differs (field_sync second last)) 0 515)
    (part (differs (field_sync second last)) n 1 515 (omega (arith, l))) (grind (arith, sum_is, none_differ))
  where
    none : (x y : ℕ) → x + 0 ≤ y → y ≡ 0 → x ≡ 0
    none x y l e = omega (arith, l, e)

-- where all that differ are those from one on, up to another
abbrev DifferWithin : ℕ → ℕ → List ℤ → Type 0
DifferWithin a b x = (n : ℕ) → n < 515 → ((a ≤ n) × (n < b)) ⊎ (differs x n ≡ 0)

-- a number that rises with them
bound : (g f : ℕ → ℕ) (n : ℕ) → ((i : ℕ) → i < n → g i + f i ≤ f (i + 1)) → total g 0 n + f 0 ≤ f n
bound g f n h =
    subst (λ (m : ℕ). total g 0 n + f 0 ≤ f m) (omega arith) (total_rises f g 0 n (λ i _ l. h i (omega (arith, l))))

few : (x : List ℤ) (a b : ℕ) → DifferWithin a b x → min b 515 - a ≤ 32 → total (differs x) 0 515 ≤ 32
few x a b within least = through (total (differs x) 0 515) (min 0 b - a) (min 515 b - a)
    (bound (differs x) (λ n. min n b - a) 515 (λ n l. grind (arith, differs_bit))) (omega (arith, least))
  where
    through : (t y z : ℕ) → t + y ≤ z → z ≤ 32 → t ≤ 32
    through t y z l m = omega (arith, l, m)

looks : (x : List ℤ) (a b : ℕ) → DifferWithin a b x → min b 515 - a ≤ 32 → looks_like x ≡ true
unfolding looks_like differing
looks x a b within least = grind (arith, le-leb, sum_is, few)

-- ---- all of them

pub burst_found : (ps : List (List ℕ)) (first count from : ℕ) (sent got : List (List ℤ))
    → AreReceived ps first sent got → LeavesSyncs first count from (length sent) → IsBurst count from sent got
    → AreFound first sent got
burst_found ps first count from sent got r leaves burst = record {
  syncs = λ i l z. looks (get_or got i []) (from - 832 * i) (from + count - 832 * i) (within i l z)
      (omega (arith, leaves.few i l z));
  before = λ i l m. omega (
    arith,
    none_damaged (get_or sent i []) (get_or got i []) (λ n h. grind (arith, same_level)),
  );
}
  where
    as_sent : (i n : ℕ) → i < length sent → (first + i) % 313 ≡ 0 → n < 515
        → (832 * i + n < from) ⊎ (from + count ≤ 832 * i + n) → differs (get_or got i []) n ≡ 0
    as_sent i n l z h side =
        let s = sync_at_place ps (first + i) (omega (arith, l, sent_within ps first sent got r (omega (arith, l)))) z in
        differs_as (get_or got i []) (field_sync s.0 s.1) n
        (rw (same_level count from sent got burst i n l (omega (arith, h)) side, sent_at ps first sent got r i l, s.2))
        ∙ own_symbol s.0 s.1 n h

    within : (i : ℕ) → i < length sent → (first + i) % 313 ≡ 0
        → DifferWithin (from - 832 * i) (from + count - 832 * i) (get_or got i [])
    within i l z n h = by_side (cases_lt (832 * i + n) from) (cases_lt (832 * i + n) (from + count))
      where
        by_side : (832 * i + n < from) ⊎ (from ≤ 832 * i + n)
            → (832 * i + n < from + count) ⊎ (from + count ≤ 832 * i + n)
            → ((from - 832 * i ≤ n) × (n < from + count - 832 * i)) ⊎ (differs (get_or got i []) n ≡ 0)
        by_side (inl a) b = inr (as_sent i n l z h (inl a))
        by_side (inr a) (inl b) = inl (omega (arith, a), omega (arith, b))
        by_side (inr a) (inr b) = inr (as_sent i n l z h (inr b))
