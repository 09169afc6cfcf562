-- Restored marks are those that were sent.
use Rattle.std.proofs.Common.{◌≡◌, ◌≢◌, ℕ, ℤ, ◌+◌, ◌-◌, ◌/◌, ◌%◌, ◌≤◌, ◌==◌, ◌&&◌, ◌⊎◌, Bool, true, false, cond, List}
use Rattle.std.proofs.Common.{[], ◌∷◌, length, map, take, drop, get_or, refl, sym, ap, ap₂, ◌∙◌, inl, inr, arith, not}
use Rattle.std.proofs.Common.{slice_range, slice_set, eq-eqb, ne_eqb, le-leb}
use Rattle.std.specs.List.{range_with_len}
use Rattle.std.proofs.lemmas.Bool.{cases_eq, lt-leb}
use Rattle.std.proofs.lemmas.List.{drop_more}
use Rattle.dtx_cadence.specs.Mark.{sync_at}
use Rattle.dtx_frame.specs.Detection.{looks_second, opposites}
use Rattle.dtx_receiver.specs.declared.batch.Received.{Received}
use Rattle.dtx_repeat.specs.Lives.{packets_in}
use Rattle.dtx_repeat.specs.Marks.{is_mark, wrong_signs, HasSyncs, without_mark}
use Rattle.dtx_repeat.specs.Restored.{place_behind, restored_one, restored}
use Rattle.dtx_repeat.proofs.RestoredLemmas.{restored_none, restored_cons, restored_same}

-- ---- which are marks

by_mark : (n : ℕ) (b : Bool) → (n % 624 ≡ 0 → b ≡ true) → (n % 624 ≢ 0 → b ≡ false) → sync_at n ≡ cond b 0xB8 0x47
by_mark n b at other = by_place (cases_eq (n % 624) 0)
  where
    by_place : (n % 624 ≡ 0) ⊎ (n % 624 ≢ 0) → sync_at n ≡ cond b 0xB8 0x47
    by_place (inl e) = ap (λ t. cond t 0xB8 0x47) (eq-eqb (n % 624) 0 e ∙ sym (at e))
    by_place (inr e) = ap (λ t. cond t 0xB8 0x47) (ne_eqb (n % 624) 0 e ∙ sym (other e))

-- where packet k begins a field or not, and that is an even one or not
told : (second : Bool) (k : ℕ) (a b : Bool) → (k % 312 == 0) ≡ a → (k / 312 % 2 == 0) ≡ b
    → is_mark second k ≡ a && not (cond b second (not second))
told second k a b e f = ap₂ (λ x y. x && not (cond y second (not second))) e f

first_marked : (k : ℕ) → k % 624 ≡ 0 → is_mark false k ≡ true
first_marked k e =
    told false k true true (eq-eqb (k % 312) 0 (omega (arith, e))) (eq-eqb (k / 312 % 2) 0 (omega (arith, e)))

first_unmarked : (k : ℕ) → k % 624 ≢ 0 → is_mark false k ≡ false
first_unmarked k n = by_field (cases_eq (k % 312) 0)
  where
    by_field : (k % 312 ≡ 0) ⊎ (k % 312 ≢ 0) → is_mark false k ≡ false
    by_field (inr e) = told false k false (k / 312 % 2 == 0) (ne_eqb (k % 312) 0 e) refl
    by_field (inl e) =
        told false k true false (eq-eqb (k % 312) 0 e) (ne_eqb (k / 312 % 2) 0 (λ z. n (omega (arith, e, z))))

second_marked : (k : ℕ) → (312 + k) % 624 ≡ 0 → is_mark true k ≡ true
second_marked k e =
    told true k true false (eq-eqb (k % 312) 0 (omega (arith, e)))
    (ne_eqb (k / 312 % 2) 0 (λ z. omega (arith, e, z)))

second_unmarked : (k : ℕ) → (312 + k) % 624 ≢ 0 → is_mark true k ≡ false
second_unmarked k n = by_field (cases_eq (k % 312) 0)
  where
    by_field : (k % 312 ≡ 0) ⊎ (k % 312 ≢ 0) → is_mark true k ≡ false
    by_field (inr e) = told true k false (k / 312 % 2 == 0) (ne_eqb (k % 312) 0 e) refl
    by_field (inl e) =
        by_parity (cases_eq (k / 312 % 2) 0)
      where
        by_parity : (k / 312 % 2 ≡ 0) ⊎ (k / 312 % 2 ≢ 0) → is_mark true k ≡ false
        by_parity (inl z) = told true k true true (eq-eqb (k % 312) 0 e) (eq-eqb (k / 312 % 2) 0 z)
        by_parity (inr z) = absurd (n (omega (arith, e, z)))

marked_by : (second : Bool) (k : ℕ) → sync_at (cond second 312 0 + k) ≡ cond (is_mark second k) 0xB8 0x47
marked_by false k =
    by_mark (0 + k) (is_mark false k) (λ e. first_marked k (omega (arith, e))) (λ n. first_unmarked k (λ e. n
    (omega (arith, e))))
marked_by true k = by_mark (312 + k) (is_mark true k) (second_marked k) (second_unmarked k)

pub marks_are : (sync : List ℤ) (k : ℕ)
    → sync_at (place_behind sync + k) ≡ cond (is_mark (looks_second sync) k) 0xB8 0x47
unfolding place_behind
marks_are sync k = marked_by (looks_second sync) k

-- ---- the field of the first sync

pub second_is : (second : Bool) (segment : List ℤ) → wrong_signs second segment ≤ 31 → looks_second segment ≡ second
unfolding looks_second
second_is true segment few = le-leb 32 (opposites segment) (omega (arith, few))
second_is false segment few = lt-leb 32 (opposites segment) (omega (arith, few))

-- ---- the packets of a feed

abbrev kept : List (List ℕ) → ℕ → List ℕ
kept feed j = without_mark (get_or feed j [])

pub feed_is : (feed : List (List ℕ)) (m k : ℕ) (packets : List Received) → HasSyncs feed → k % 624 ≡ m % 624
    → m + length packets ≤ length feed
    → packets_in packets ≡ map (kept feed) (range_with_len m (length packets))
    → packets_in (restored k packets) ≡ slice_range feed m (m + length packets)
feed_is feed m k [] syncs e l is =
    ap packets_in (restored_none k) ∙ ap (λ n. take n (drop m feed)) (sym (zero m))
  where
    zero : (m : ℕ) → m + 0 - m ≡ 0
    zero m = omega arith
feed_is feed m k (x ∷ xs) syncs e l is =
    ap packets_in (restored_same k m (x ∷ xs) e ∙ restored_cons m x xs)
    ∙ ap₂ (λ y ys. y ∷ ys) head
    (feed_is feed (m + 1) (m + 1) xs syncs refl (omega (arith, l)) parts.1
    ∙ ap (λ n. take n (drop (m + 1) feed)) (same m (length xs)))
    ∙ sym (ap₂ take count (drop_more feed m [] (omega (arith, l))))
  where
    count : m + length (x ∷ xs) - m ≡ length (x ∷ xs)
    count = omega arith

    parts : (x.packet.0 ≡ kept feed m) × (packets_in xs ≡ map (kept feed) (range_with_len (m + 1) (length xs)))
    parts = (
      ap (λ (ps : List (List ℕ)). get_or ps 0 []) is,
      ap (λ (ps : List (List ℕ)). drop 1 ps) is,
    )

    head : (restored_one m x).packet.0 ≡ get_or feed m []
    head =
        ap (λ (p : List ℕ). slice_set p 0 (sync_at m)) parts.0
        ∙ sym (syncs m (omega (arith, l)))

    same : (m n : ℕ) → m + 1 + n - (m + 1) ≡ n
    same m n = omega arith
