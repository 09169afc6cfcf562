-- A field sync that stands at a gain and with a constant: what its place shows.
use Rattle.std.proofs.Common.{◌≡◌, ℕ, ℤ, pos, negsuc, zero, suc, ◌+◌, ◌-◌, ◌*◌, ◌<◌, ◌≤◌, ◌+ℤ◌, ◌-ℤ◌, ◌*ℤ◌, nat_abs}
use Rattle.std.proofs.Common.{Bool, true, false, ◌&&◌, ◌||◌, cond, not, leb, List, [], ◌∷◌, length, map, sum, get_or}
use Rattle.std.proofs.Common.{refl, sym, ap, ap₂, ◌∙◌, arith}
use Rattle.std.specs.Prelude.{int_lt}
use Rattle.std.specs.List.{range_with_len}
use Rattle.std.proofs.lemmas.Bool.{lt-ltb}
use Rattle.std.proofs.lemmas.Int.{ints}
use Rattle.std.proofs.lemmas.List.{get_or-map, length-map}
use Rattle.std.proofs.lemmas.List.Sums.{sum_by-cons}
use Rattle.dtx_lists.proofs.Range.{map-range_same}
use Rattle.dtx_frame.proofs.CountsLemmas.{sum_is, total_ones, total_zeros}
use Rattle.dtx_frame.specs.Segments.{sync_symbols}
use Rattle.dtx_frame.proofs.SymbolsLemmas.{first_is}
use Rattle.dtx_acquire.specs.Agreement.{is_plus, is_second, sync_sign, unlike, unlike_at}
use Rattle.dtx_level.specs.Shown.{are_shown, constant, counted_at, gain, shows, sum_where, total}
use Rattle.dtx_level.specs.Levelled.{By, by_sync, level}
use Rattle.dtx_level.specs.Measures.{noise, square_at}
use Rattle.dtx_level.specs.Standing.{eightfold, standing}
use Rattle.dtx_level.proofs.Counts.{signs_counted}
use Rattle.dtx_level.proofs.Each.{each_is}
use Rattle.dtx_level.proofs.Gains.{symbol_undone}
use Rattle.dtx_level.proofs.Shows.{shows_by}

-- a symbol of the sync's front where it stands so, by its sign
abbrev pub five_at : ℤ → ℤ → Bool → ℤ
five_at a b plus = a *ℤ cond plus (pos 5) (negsuc 4) +ℤ b

-- the first 515 symbols from a place on are those of a sync where it stands so, and a segment is there
pub record IsSyncAt (a b : ℤ) (v : List ℤ) (place : ℕ) : Type 0 where
  pub room : place + 832 ≤ length v
  pub front : (i : ℕ) → i < 515 → get_or v (place + i) (pos 0) ≡ five_at a b (sync_sign i)

-- ---- its sums

total_counted : (p : ℕ → Bool) (x : ℤ) (ns : List ℕ)
    → total (map (λ i. cond (p i) x (pos 0)) ns) ≡ pos (sum (map (λ i. cond (p i) 1 0) ns)) *ℤ x
total_counted p x [] = omega (arith, ints)
total_counted p x (n ∷ ns) = ap (λ s. cond (p n) x (pos 0) +ℤ s) (total_counted p x ns)
    ∙ by_sign (p n) (sum (map (λ i. cond (p i) 1 0) ns))
    ∙ ap (λ k. pos k *ℤ x) (sym (sum_by-cons (λ y. y) (cond (p n) 1 0) (map (λ i. cond (p i) 1 0) ns)))
  where
    by_sign : (c : Bool) (k : ℕ) → cond c x (pos 0) +ℤ pos k *ℤ x ≡ pos (cond c 1 0 + k) *ℤ x
    by_sign true k = omega (arith, ints)
    by_sign false k = omega (arith, ints)

sum_plus : (a b : ℤ) (v : List ℤ) (place : ℕ) → IsSyncAt a b v place
    → sum_where true v place 515 ≡ pos 258 *ℤ five_at a b true
unfolding sum_where counted_at
sum_plus a b v place h =
    ap total (map-range_same (counted_at true v place) (λ i. cond (sync_sign i) (five_at a b true) (pos 0)) 0 515
    (λ i l m. grind arith)) ∙ total_counted sync_sign (five_at a b true) (range_with_len 0 515)
    ∙ ap (λ n. pos n *ℤ five_at a b true) signs_counted

sum_minus : (a b : ℤ) (v : List ℤ) (place : ℕ) → IsSyncAt a b v place
    → sum_where false v place 515 ≡ pos 257 *ℤ five_at a b false
unfolding sum_where counted_at sync_sign
sum_minus a b v place h = ap total (map-range_same (counted_at false v place)
    (λ i. cond (not (sync_sign i)) (five_at a b false) (pos 0)) 0
    515 (λ i l m. grind arith)) ∙ total_counted (λ i. not (sync_sign i)) (five_at a b false) (range_with_len 0 515)
    ∙ ap (λ n. pos n *ℤ five_at a b false) (sym (grind (arith, first_is)))

pub gain_at : (a b : ℤ) (v : List ℤ) (place : ℕ) → IsSyncAt a b v place → gain v place ≡ pos 663060 *ℤ a
unfolding gain
gain_at a b v place h = ap₂ (λ x y. pos 257 *ℤ x -ℤ pos 258 *ℤ y) (sum_plus a b v place h) (sum_minus a b v place h)
    ∙ omega (arith, ints)

-- ---- its signs

plus_is : (n : ℕ) (x : ℤ) → nat_abs (x -ℤ pos (5 * suc n)) < 5 * suc n → is_plus x ≡ true
plus_is n (pos zero) l = absurd (omega (arith, ints))
plus_is n (pos (suc m)) l = lt-ltb zero (suc m) (omega arith)
plus_is n (negsuc m) l = absurd (omega (arith, ints))

minus_is : (n : ℕ) (x : ℤ) → nat_abs (x +ℤ pos (5 * suc n)) < 5 * suc n → is_plus x ≡ false
minus_is n (pos zero) l = refl
minus_is n (pos (suc m)) l = absurd (omega (arith, ints))
minus_is n (negsuc m) l = refl

unlike_kept : (n : ℕ) (b : ℤ) (v : List ℤ) (place : ℕ) → nat_abs b < 5 * suc n → IsSyncAt (pos (suc n)) b v place
    → 0 ≡ unlike v place 0 515
unfolding unlike unlike_at
unlike_kept n b v place l h = sym (sum_is (unlike_at v place) 0 515 ∙ total_zeros (unlike_at v place) 0 515
    (λ i k m. grind (arith, plus_is, ints, minus_is)))

unlike_turned : (n : ℕ) (b : ℤ) (v : List ℤ) (place : ℕ) → nat_abs b < 5 * suc n → IsSyncAt (negsuc n) b v place
    → 515 ≡ unlike v place 0 515
unfolding unlike unlike_at
unlike_turned n b v place l h = sym (sum_is (unlike_at v place) 0 515 ∙ total_ones (unlike_at v place) 0 515
    (λ i k m. grind (arith, minus_is, ints, plus_is)))

shown_kept : (n : ℕ) → are_shown 0 (pos 663060 *ℤ pos (suc n)) ≡ true
shown_kept n = ap (λ c. c || (leb 387 0 && int_lt (pos 663060 *ℤ pos (suc n)) (pos 0)))
    (lt-ltb 0 (663060 * suc n) (omega arith))

shown_turned : (n m : ℕ) → pos 663060 *ℤ negsuc n ≡ negsuc m → are_shown 515 (pos 663060 *ℤ negsuc n) ≡ true
shown_turned n m e = ap (are_shown 515) e

-- the place shows a sync
pub shows_at : (a b : ℤ) (v : List ℤ) (place : ℕ) → nat_abs b < 5 * nat_abs a → IsSyncAt a b v place
    → shows v place ≡ true
shows_at (pos zero) b v place l h = absurd (omega arith)
shows_at (pos (suc n)) b v place l h =
    sym (shows_by v place 0 (pos 663060 *ℤ pos (suc n)) h.room (unlike_kept n b v place l h)
    (sym (gain_at (pos (suc n)) b v place h))) ∙ shown_kept n
shows_at (negsuc n) b v place l h =
    sym (shows_by v place 515 (pos 663060 *ℤ negsuc n) h.room (unlike_turned n b v place l h)
    (sym (gain_at (negsuc n) b v place h))) ∙ shown_turned n (663060 * suc n - 1) (omega (arith, ints))

-- ---- what it levels

-- by a gain and a constant
abbrev pub by_gain : ℤ → ℤ → By
by_gain a b = record { begun = true; gain = pos 663060 *ℤ a; constant = pos 132612 *ℤ b }

pub by_at : (a b : ℤ) (v : List ℤ) (place : ℕ) → IsSyncAt a b v place → by_sync v place ≡ by_gain a b
unfolding constant
by_at a b v place h = ap₂ (λ (g o : ℤ). record { begun = true; gain = g; constant = o }) (gain_at a b v place h)
    (ap₂ (λ x y. pos 257 *ℤ x +ℤ pos 258 *ℤ y) (sum_plus a b v place h) (sum_minus a b v place h) ∙ omega (arith, ints))

-- none is beyond 7 or -7
abbrev pub AreSmall : List ℤ → Type 0
AreSmall xs = (k : ℕ) → k < length xs → nat_abs (get_or xs k (pos 0)) ≤ 7

pub standing_undone : (a b : ℤ) (xs : List ℤ) → nat_abs b < 5 * nat_abs a → AreSmall xs
    → map (level (by_gain a b)) (standing a b xs) ≡ eightfold xs
unfolding standing eightfold
standing_undone a b xs l small = each_is (λ s. pos 8 *ℤ s) xs (map (level (by_gain a b)) (map (λ s. a *ℤ s +ℤ b) xs))
    (length-map (map (λ s. a *ℤ s +ℤ b) xs) (level (by_gain a b)) ∙ length-map xs (λ s. a *ℤ s +ℤ b))
    (λ k m. get_or-map (level (by_gain a b)) (map (λ s. a *ℤ s +ℤ b) xs) k (pos 0) (pos 0)
    (omega (arith, m, length-map xs (λ s. a *ℤ s +ℤ b)))
    ∙ ap (level (by_gain a b)) (get_or-map (λ s. a *ℤ s +ℤ b) xs k (pos 0) (pos 0) m)
    ∙ symbol_undone a b (get_or xs k (pos 0)) (λ e. omega (arith, l, ap nat_abs e)) (omega (arith, small k m)))

-- ---- a segment of it, eight times as much

eight_at : (xs : List ℤ) (k : ℕ) → k < length xs → get_or (eightfold xs) k (pos 0) ≡ pos 8 *ℤ get_or xs k (pos 0)
unfolding eightfold
eight_at xs k l = get_or-map (λ s. pos 8 *ℤ s) xs k (pos 0) (pos 0) l

pub second_eight : (segment : List ℤ) → length segment ≡ 832 → is_second (eightfold segment) ≡ is_second segment
unfolding is_second unlike unlike_at
second_eight segment long =
    ap (λ n. leb 32 n) (ap sum (map-range_same (unlike_at (eightfold segment) 0) (unlike_at segment 0) 578 63
    (λ i l m. (grind (arith, eight_at, lt-ltb, ints)))))

pub noise_eight : (segment : List ℤ) → length segment ≡ 832
    → ((i : ℕ) → i < 515 → get_or segment i (pos 0) ≡ get_or (sync_symbols false) i (pos 0))
    → noise (eightfold segment) 515 ≡ 0
unfolding noise square_at
noise_eight segment long front = sum_is (square_at (eightfold segment)) 0 515
    ∙ total_zeros (square_at (eightfold segment)) 0 515 (λ i l m. grind (arith, ints, eight_at))
