-- Zeros in front of symbols near those of a stream: no place of them agrees with a field sync.
use Rattle.std.proofs.Common.{◌≡◌, ℕ, ℤ, pos, zero, suc, ◌+◌, ◌-◌, ◌*◌, ◌<◌, ◌≤◌, ◌⊎◌, inl, inr, Bool, true, false}
use Rattle.std.proofs.Common.{cond, nat_lt, min, List, [], ◌∷◌, ◌++◌, length, map, take, replicate, get_or, refl}
use Rattle.std.proofs.Common.{sym, ap, ap₂, ◌∙◌, subst, arith}
use Rattle.std.proofs.lemmas.Bool.{cases_lt, lt-leb, ltb-true}
use Rattle.std.proofs.lemmas.List.{get_or-append_right, get_or-replicate, get_or_append_left, length-append, length-map}
use Rattle.std.proofs.lemmas.List.{length-replicate, length-take-le}
use Rattle.dtx_lists.proofs.Below.{at_below, holds_below}
use Rattle.dtx_frame.proofs.CountsLemmas.{sum_is, total}
use Rattle.dtx_frame.proofs.SymbolsLemmas.{first_is, length_front}
use Rattle.dtx_frame.specs.Segments.{sync_symbols}
use Rattle.dtx_acquire.specs.Agreement.{agrees, are_unlike, is_plus, sync_sign, unlike, unlike_at}
use Rattle.dtx_acquire.proofs.AgreementLemmas.{past_end}
use Rattle.dtx_acquire.specs.Sent.{AreInFields, AreNear, IsNear}
use Rattle.dtx_acquire.proofs.AgreementLemmas.{agrees_by}
use Rattle.dtx_acquire.proofs.NearLevels.{sign_near}
use Rattle.dtx_acquire.proofs.SentLemmas.{all_symbols, fives, length_sent, part_at, sent_front, symbol_there}

-- ---- signs

-- how many of some signs are unlike others at their places
unfoldable differing : List Bool → List Bool → ℕ
differing [] ys = 0
differing (x ∷ xs) [] = 0
differing (x ∷ xs) (y ∷ ys) = cond (are_unlike x y) 1 0 + differing xs ys

-- the sum of what is unlike, place by place
differing_is : (f : ℕ → ℕ) (a : ℕ) (xs ys : List Bool) → length ys ≤ length xs
    → ((i : ℕ) → i < length ys → f (a + i) ≡ cond (are_unlike (get_or xs i false) (get_or ys i false)) 1 0)
    → total f a (length ys) ≡ differing xs ys
unfolding differing
differing_is f a [] [] l h = refl
differing_is f a (x ∷ xs) [] l h = refl
differing_is f a [] (y ∷ ys) l h = absurd (omega arith)
differing_is f a (x ∷ xs) (y ∷ ys) l h =
    let here : a ≡ a + 0 = omega arith in
    ap₂ (λ m n. m + n) (ap f here ∙ h 0 (omega arith)) (differing_is f (suc a) xs ys (omega arith)
    (λ i m. (let next : suc a + i ≡ a + suc i = omega arith in ap f next ∙ h (suc i) (omega arith))))

-- the signs of the first symbols of a field sync
abbrev front_signs : List ℤ → List Bool
front_signs symbols = map is_plus (take 515 symbols)

abbrev signs : List Bool
signs = front_signs (sync_symbols false)

-- Behind each number of zeros up to 515, and there are none above 0, more than 128 of 515 signs are unlike their own.
unfoldable are_far : List Bool → Bool
are_far ys = holds_below (λ d. nat_lt 128 (differing (replicate (suc d) false ++ ys) ys)) 515

all_far : are_far signs ≡ true
unfolding are_far differing
all_far = sym (ap (λ xs. are_far (front_signs xs)) first_is) ∙ refl

far_at : (d : ℕ) → 0 < d → d ≤ 515 → 128 < differing (replicate d false ++ signs) signs
unfolding are_far
far_at zero l m = absurd (omega arith)
far_at (suc d) l m = ltb-true 128 (differing (replicate (suc d) false ++ signs) signs)
    (at_below (λ d. nat_lt 128 (differing (replicate (suc d) false ++ signs) signs)) 515 d all_far (omega arith))

sign_at : (i : ℕ) → i < 515 → get_or signs i false ≡ sync_sign i
unfolding sync_sign
sign_at i l =
    let there : 0 + i ≡ i = omega arith in
    part_at is_plus 0 515 i false l (omega arith) ∙ ap (λ k. is_plus (get_or (sync_symbols false) k (pos 0))) there

length-signs : length signs ≡ 515
length-signs = length-map (take 515 (sync_symbols false)) is_plus
    ∙ length-take-le 515 (sync_symbols false) (omega (arith, length_front false))

-- ---- places

unlike_is : (w : List ℤ) (p i j : ℕ) (x y : Bool) → j ≡ i → is_plus (get_or w (p + i) (pos 0)) ≡ x → sync_sign i ≡ y
    → unlike_at w p j ≡ cond (are_unlike x y) 1 0
unfolding unlike_at
unlike_is w p i j x y e f g = ap (λ k. cond (are_unlike (is_plus (get_or w (p + k) (pos 0))) (sync_sign k)) 1 0) e
    ∙ ap₂ (λ (x y : Bool). cond (are_unlike x y) 1 0) f g

-- where the symbols behind the zeros have a sync's signs, as far as 515 from the place on reach
zeros_differ : (zeros p : ℕ) (symbols : List ℤ) → p < zeros
    → ((k : ℕ) → zeros + k < p + 515 → is_plus (get_or symbols k (pos 0)) ≡ sync_sign k)
    → 128 < unlike (replicate zeros (pos 0) ++ symbols) p 0 515
unfolding unlike
zeros_differ zeros p symbols l h = subst (λ n. 128 < n)
    (sym (sum_is (unlike_at w p) 0 515 ∙ ap (total (unlike_at w p) 0) (sym length-signs)
    ∙ differing_is (unlike_at w p) 0 (replicate d false ++ signs) signs
    (omega (arith, length-append (replicate d false) signs)) (λ i m. at i (omega (arith, m, length-signs)))))
    (far_at d (omega arith) (omega arith))
  where
    w : List ℤ
    w = replicate zeros (pos 0) ++ symbols

    d : ℕ
    d = min (zeros - p) 515

    sign : (i : ℕ) → i < 515 → (p + i < zeros) ⊎ (zeros ≤ p + i)
        → is_plus (get_or w (p + i) (pos 0)) ≡ get_or (replicate d false ++ signs) i false
    sign i m (inl n) =
        let inside : i < d = omega arith in
        ap is_plus (get_or_append_left (replicate zeros (pos 0)) symbols (pos 0) (p + i)
        (omega (arith, n, length-replicate zeros (pos 0)))
        ∙ get_or-replicate zeros (p + i) (pos 0) (pos 0) n)
        ∙ sym (get_or_append_left (replicate d false) signs false i (omega (arith, inside, length-replicate d false))
        ∙ get_or-replicate d i false false inside)
    sign i m (inr n) =
        let outside : d ≤ i = omega arith in
        let same : p + i - zeros ≡ i - d = omega arith in
        ap is_plus (get_or-append_right (replicate zeros (pos 0)) symbols zeros (p + i) (pos 0)
        (length-replicate zeros (pos 0)) n)
        ∙ h (p + i - zeros) (omega arith) ∙ ap sync_sign same ∙ sym (sign_at (i - d) (omega arith))
        ∙ sym (get_or-append_right (replicate d false) signs d i false (length-replicate d false) outside)

    at : (i : ℕ) → i < 515 → unlike_at w p (0 + i)
        ≡ cond (are_unlike (get_or (replicate d false ++ signs) i false) (get_or signs i false)) 1 0
    at i m = unlike_is w p i (0 + i) _ _ (omega arith) (sign i m (cases_lt (p + i) zeros)) (sym (sign_at i m))

-- the signs of symbols near those of a stream
sign_there : (scale : ℕ) (sent : List (List ℤ)) (symbols : List ℤ) → AreInFields sent
    → AreNear scale (all_symbols sent) symbols → (k : ℕ) → k < 515 → 0 < length symbols
    → is_plus (get_or symbols k (pos 0)) ≡ sync_sign k
unfolding sync_sign
sign_there scale sent symbols h near k l some =
    let first : 0 < length sent = omega (arith, some, near.long, length_sent sent h) in
    let there : 832 * 0 + k ≡ k = omega arith in
    let own : get_or (all_symbols sent) k (pos 0) ≡ get_or (sync_symbols false) k (pos 0) =
    ap (λ n. get_or (all_symbols sent) n (pos 0)) (sym there) ∙ symbol_there sent h 0 k first (omega arith)
    ∙ sent_front (get_or sent 0 []) (h.syncs 0 first refl) k l in
    sign_near scale (get_or (sync_symbols false) k (pos 0)) (get_or symbols k (pos 0)) (fives false k (omega arith))
    (subst (λ x. IsNear scale x (get_or symbols k (pos 0))) own
    (near.near k (omega (arith, l, first, length_sent sent h))))

-- no place of the zeros agrees
pub none_agrees : (scale zeros : ℕ) (sent : List (List ℤ)) (symbols : List ℤ) → AreInFields sent
    → AreNear scale (all_symbols sent) symbols → (p : ℕ) → p < zeros
    → agrees (replicate zeros (pos 0) ++ symbols) p ≡ false
none_agrees scale zeros sent symbols h near p l = by_room (cases_lt (length w) (p + 832))
  where
    w : List ℤ
    w = replicate zeros (pos 0) ++ symbols

    long : length w ≡ zeros + length symbols
    long = length-append (replicate zeros (pos 0)) symbols
        ∙ ap (λ n. n + length symbols) (length-replicate zeros (pos 0))

    by_room : (length w < p + 832) ⊎ (p + 832 ≤ length w) → agrees w p ≡ false
    by_room (inl m) = past_end w p m
    by_room (inr m) = sym (agrees_by w p (unlike w p 0 515) m refl)
        ∙ lt-leb (unlike w p 0 515) 128 (zeros_differ zeros p symbols l
        (λ k n. sign_there scale sent symbols h near k (omega arith) (omega (arith, long))))
