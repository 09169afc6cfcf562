-- The packets of a run by how many data segments are in whole groups: those that are given while it is on, and the last
-- one.
use Rattle.std.proofs.Common.{◌≡◌, ◌≢◌, ℕ, ◌+◌, ◌-◌, ◌*◌, ◌/◌, ◌%◌, ◌<◌, ◌≤◌, ◌⊎◌, List, [], ◌∷◌, ◌++◌, map, length}
use Rattle.std.proofs.Common.{take, drop, refl, sym, ap, ap₂, ◌∙◌, inl, inr, arith, lit<}
use Rattle.std.specs.List.{filter, range_with_len}
use Rattle.std.proofs.lemmas.Bool.{cases_eq, cases_lt}
use Rattle.std.proofs.lemmas.List.{length-append, append-nil, map-append, append_assoc, length-take-le}
use Rattle.std.proofs.lemmas.List.{take-append-drop, nil_from_length}
use Rattle.dtx_outer.specs.Inner.{waiting, word_at, IsComplete}
use Rattle.dtx_outer.proofs.MadeLemmas.{made_in, next_in, made_more, made_none, made_next}
use Rattle.dtx_outer.proofs.WordsLemmas.{waiting_air, word_stays}
use Rattle.dtx_laws.specs.Words.{correction}
use Rattle.dtx_lists.proofs.Range.{range_with_len-parts, map-range_same}
use Rattle.dtx_receiver.specs.Packets.{is_complete, received_by, received_at, run_packets, early_of, packets_by}
use Rattle.dtx_receiver.specs.Packets.{early_by}
use Rattle.dtx_receiver.specs.declared.batch.Received.{Received}
use Rattle.dtx_receiver.proofs.CompleteLemmas.{complete_all, complete_parts, complete_last, complete_none}

numbers : (s : ℕ) → 207 * s / 207 ≡ s
numbers s = omega arith

-- ---- whatever packet k is

early_count : (at : ℕ → Received) (n s : ℕ) → n ≡ 207 * s → early_by at n ≡ map at (range_with_len 0 (s - 52))
early_count at n s e = ap (λ m. map at (range_with_len 0 (m - 52))) (ap (λ m. m / 207) e ∙ numbers s)

-- with n times 207 bytes more, of a packet that stays where its bytes are all there, those packets that become early
pub early_grown : (at new : ℕ → Received) (c d s n : ℕ) → c ≡ 207 * s → d ≡ 207 * (s + n)
    → ((k : ℕ) → IsComplete 207 52 4 (207 * s) k → new k ≡ at k)
    → early_by new d ≡ early_by at c ++ map new (range_with_len (s - 52) (s + n - 52 - (s - 52)))
early_grown at new c d s n e f same = early_count new d (s + n) f ∙ ap (λ m. map new (range_with_len 0 m)) (omega arith)
    ∙ ap (map new) (range_with_len-parts 0 (s - 52) (s + n - 52 - (s - 52)))
    ∙ map-append new (range_with_len 0 (s - 52)) (range_with_len (0 + (s - 52)) (s + n - 52 - (s - 52)))
    ∙ ap₂ (λ (xs : List Received) (a : ℕ). xs ++ map new (range_with_len a (s + n - 52 - (s - 52))))
    (map-range_same new at 0 (s - 52) (λ k a b. grind (arith, complete_all)) ∙ sym (early_count at c s e)) (omega arith)

-- at the end, whatever is left comes behind those
abbrev pub left_by : (ℕ → Received) → ℕ → List Received
left_by at s = map at (filter (is_complete (207 * s)) (range_with_len (s - 52) (s - (s - 52))))

pub ends_more : (at : ℕ → Received) (n s : ℕ) → n ≡ 207 * s → packets_by at n ≡ early_by at n ++ left_by at s
ends_more at n s e = grind (arith, numbers, complete_parts, map-append, early_count)

-- nothing, or one packet
pub ends_none : (at : ℕ → Received) (n s : ℕ) → n ≡ 207 * s → (s < 52) ⊎ (s % 52 ≢ 0)
    → packets_by at n ≡ early_by at n ++ []
ends_none at n s e c = ends_more at n s e ∙ ap (λ xs. early_by at n ++ map at xs) (complete_none s c)

pub ends_one : (at : ℕ → Received) (n s : ℕ) → n ≡ 207 * s → 52 ≤ s → s % 52 ≡ 0
    → packets_by at n ≡ early_by at n ++ at (s - 52) ∷ []
ends_one at n s e l z = ends_more at n s e ∙ ap (λ xs. early_by at n ++ map at xs) (complete_last s l z)

-- ---- where each word is corrected

-- the packet of a word, as packet k
abbrev pub received_word : ℕ → List ℕ → Received
received_word k word = received_by (187 * (k % 312)) word (correction 207 187 word)

pub early_made : (bytes : List ℕ) → made_in 207 52 4 received_word bytes ≡ early_of bytes
unfolding early_of received_at
early_made bytes = ap (λ w. map (received_at bytes) (range_with_len 0 (length bytes / 207 - w))) waiting_air

-- the packets whose words are complete stay as they are, whatever bytes come
stays : (bytes more : List ℕ) (k : ℕ) → IsComplete 207 52 4 (length bytes) k
    → received_at (bytes ++ more) k ≡ received_at bytes k
unfolding received_at
stays bytes more k c = ap (received_word k) (word_stays 207 52 4 bytes more k c)

-- with n times 207 bytes more, those packets more that become early
abbrev pub next_of : List ℕ → ℕ → ℕ → List Received
next_of bytes s n = next_in 207 52 4 received_word bytes s n

pub early_more : (bytes more : List ℕ) (s n : ℕ) → length bytes ≡ 207 * s → length more ≡ 207 * n
    → early_of (bytes ++ more) ≡ early_of bytes ++ next_of (bytes ++ more) s n
early_more bytes more s n e f = sym (early_made (bytes ++ more))
    ∙ made_more 207 52 4 received_word bytes more s n (lit< tt) (lit< tt) (omega (arith, e))
    (omega (arith, e, f, length-append bytes more))
    ∙ ap (λ xs. xs ++ next_of (bytes ++ more) s n) (early_made bytes)

-- with 207 bytes more: no packet, while a run is short, and then packet s - 52
pub early_short : (bytes more : List ℕ) (s : ℕ) → length bytes ≡ 207 * s → length more ≡ 207 → s < 52
    → early_of (bytes ++ more) ≡ early_of bytes
early_short bytes more s e f l = sym (early_made (bytes ++ more))
    ∙ made_none 207 52 4 received_word bytes more s (lit< tt) (lit< tt) e f (omega (arith, l, waiting_air))
    ∙ early_made bytes

pub early_next : (bytes more : List ℕ) (s : ℕ) → length bytes ≡ 207 * s → length more ≡ 207 → 52 ≤ s
    → early_of (bytes ++ more) ≡ early_of bytes ++ received_at (bytes ++ more) (s - 52) ∷ []
unfolding received_at
early_next bytes more s e f l = sym (early_made (bytes ++ more))
    ∙ made_next 207 52 4 received_word bytes more s (lit< tt) (lit< tt) e f (omega (arith, l, waiting_air))
    ∙ ap (λ xs. xs ++ at (s - waiting 207 52 4) ∷ []) (early_made bytes)
    ∙ ap (λ w. early_of bytes ++ at (s - w) ∷ []) waiting_air
  where
    at : ℕ → Received
    at k = received_word k (word_at 207 52 4 (bytes ++ more) k)

pub end_more : (bytes : List ℕ) (s : ℕ) → length bytes ≡ 207 * s
    → run_packets bytes ≡ early_of bytes ++ left_by (received_at bytes) s
unfolding run_packets early_of
end_more bytes s e = ends_more (received_at bytes) (length bytes) s e

-- what is left at the end of a run: nothing, or one packet, which any 207 bytes more bring
pub end_none : (bytes : List ℕ) (s : ℕ) → length bytes ≡ 207 * s → (s < 52) ⊎ (s % 52 ≢ 0)
    → run_packets bytes ≡ early_of bytes
unfolding run_packets early_of
end_none bytes s e c = ends_none (received_at bytes) (length bytes) s e c ∙ append-nil (early_of bytes)

pub end_one : (bytes more : List ℕ) (s : ℕ) → length bytes ≡ 207 * s → length more ≡ 207 → 52 ≤ s → s % 52 ≡ 0
    → run_packets bytes ≡ early_of (bytes ++ more)
unfolding run_packets early_of
end_one bytes more s e f l z =
    let there : IsComplete 207 52 4 (length bytes) (s - 52) = grind (arith, complete_all) in
    ends_one (received_at bytes) (length bytes) s e l z
    ∙ ap (λ (r : Received). early_of bytes ++ r ∷ []) (sym (stays bytes more (s - 52) there))
    ∙ sym (early_next bytes more s e f l)

pub early_nothing : early_of [] ≡ []
unfolding early_of
early_nothing = refl

-- the end of a run whose data segments are a multiple of 52, and of any other
pub end_turn : (bytes more : List ℕ) (s : ℕ) → length bytes ≡ 207 * s → length more ≡ 207 → s % 52 ≡ 0
    → run_packets bytes ≡ early_of (bytes ++ more)
end_turn bytes more s e f z = elim (cases_lt s 52) [
  | inl few ↦ end_none bytes s e (inl few) ∙ sym (early_short bytes more s e f few)
  | inr many ↦ end_one bytes more s e f many z
]

-- the packets of a run stay, whatever bytes come behind it
packets_stay : (bytes more : List ℕ) (s n : ℕ) → length bytes ≡ 207 * s → length more ≡ 207 * n
    → (before rest : List ℕ) (m : ℕ) → before ++ rest ≡ bytes ++ more → length before ≡ 207 * m
    → m ≤ s + n → run_packets bytes ≡ early_of before
    → (brought : List Received) × (run_packets (bytes ++ more) ≡ run_packets bytes ++ brought)
packets_stay bytes more s n e f before rest m is long within same =
    let whole : length (bytes ++ more) ≡ 207 * (s + n) = length-append bytes more ∙ omega (arith, e, f) in
    let left : length rest ≡ 207 * (s + n - m) = omega (arith, ap length is, length-append before rest, whole, long) in
    let next : List Received = next_of (before ++ rest) m (s + n - m) in (
      next ++ left_by (received_at (bytes ++ more)) (s + n),
      end_more (bytes ++ more) (s + n) whole
          ∙ ap (λ xs. xs ++ left_by (received_at (bytes ++ more)) (s + n)) (grind (arith, early_more))
          ∙ append_assoc (run_packets bytes) next (left_by (received_at (bytes ++ more)) (s + n)),
    )

pub packets_more : (bytes more : List ℕ) (s n : ℕ) → length bytes ≡ 207 * s → length more ≡ 207 * n
    → (brought : List Received) × (run_packets (bytes ++ more) ≡ run_packets bytes ++ brought)
packets_more bytes more s n e f = by_turn (cases_eq (s % 52) 0) (cases_lt 0 n)
  where
    by_turn : (s % 52 ≡ 0) ⊎ (s % 52 ≢ 0) → (0 < n) ⊎ (n ≤ 0)
        → (brought : List Received) × (run_packets (bytes ++ more) ≡ run_packets bytes ++ brought)
    by_turn (inl z) (inl some) =
        let first : List ℕ = take 207 more in
        let long : length first ≡ 207 = length-take-le 207 more (omega (arith, f, some)) in
        packets_stay bytes more s n e f (bytes ++ first) (drop 207 more) (s + 1)
        (append_assoc bytes first (drop 207 more) ∙ ap (λ xs. bytes ++ xs) (take-append-drop 207 more))
        (length-append bytes first ∙ omega (arith, e, long)) (omega (arith, some)) (end_turn bytes first s e long z)
    by_turn (inl z) (inr none) = grind (arith, nil_from_length, append-nil)
    by_turn (inr z) any = packets_stay bytes more s n e f bytes more s refl e (omega arith) (end_none bytes s e (inr z))
