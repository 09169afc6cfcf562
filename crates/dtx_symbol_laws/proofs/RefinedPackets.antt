-- The packets of the segments after rounds: those whose words are known stay.
use Rattle.std.proofs.Common.{◌≡◌, ◌≢◌, ℕ, ℤ, ◌+◌, ◌-◌, ◌*◌, ◌/◌, ◌%◌, ◌<◌, ◌≤◌, ◌⊎◌, inl, inr, true, Option, Some}
use Rattle.std.proofs.Common.{None, List, [], ◌∷◌, ◌++◌, length, map, refl, sym, ap, ◌∙◌, subst, arith, zero-add}
use Rattle.std.specs.Prelude.{slice_get}
use Rattle.std.specs.List.{filter, range_with_len}
use Rattle.std.proofs.lemmas.Bool.{cases_eq, cases_lt}
use Rattle.std.proofs.lemmas.List.{append-nil, length-append, length-map}
use Rattle.std.proofs.lemmas.List.FromFn.{length-range_with_len}
use Rattle.std.proofs.lemmas.Option.{same_Some, slice_get_within}
use Rattle.dtx_laws.specs.Words.{correction}
use Rattle.dtx_outer.specs.Inner.{IsComplete, word_at}
use Rattle.dtx_slice.specs.Unrolled.{level_groups}
use Rattle.dtx_receiver.specs.Bytes.{bytes_in, levels_in}
use Rattle.dtx_receiver.specs.Packets.{all_packets, is_complete, received_at, received_by, run_packets}
use Rattle.dtx_receiver.specs.declared.batch.Received.{Received}
use Rattle.dtx_receiver.proofs.CompleteLemmas.{complete_all, complete_last, complete_none, complete_parts}
use Rattle.dtx_receiver.proofs.CompleteLemmas.{complete_told}
use Rattle.dtx_receiver.proofs.CountingLemmas.{bytes_count}
use Rattle.dtx_chain.proofs.NumbersLemmas.{number_at}
use Rattle.dtx_chain.proofs.RunsLemmas.{middle_at}
use Rattle.dtx_acquire.specs.Acquired.{acquired}
use Rattle.dtx_acquire.specs.Sent.{AreInFields}
use Rattle.dtx_rounds.specs.Known.{known_word}
use Rattle.dtx_rounds.specs.Rounds.{refined, rounds_of}
use Rattle.dtx_rounds.proofs.KnownLemmas.{known_from, known_parts}
use Rattle.dtx_symbol_laws.specs.RestoredFile.{StayGood, received_as}
use Rattle.dtx_symbol_laws.proofs.RefinedFields.{fields_refined, packets_of_run}

-- ---- the packets of a run by their numbers

-- the words of so many data segments that are there, one behind the other
counted : (s k : ℕ) → k < length (filter (is_complete (207 * s)) (range_with_len 0 s))
    → (k + 53 ≤ s) ⊎ ((k + 52 ≡ s) × (k % 52 ≡ 0))
counted s k l = by_turn (cases_lt s 52) (cases_eq (s % 52) 0)
  where
    front : List ℕ
    front = range_with_len 0 (s - 52)

    none : (s < 52) ⊎ (s % 52 ≢ 0) → (k + 53 ≤ s) ⊎ ((k + 52 ≡ s) × (k % 52 ≡ 0))
    none h = grind (arith, complete_parts, complete_none, append-nil, length-range_with_len)

    by_last : s % 52 ≡ 0 → k < s - 52 + 1 → 52 ≤ s → (k < s - 52) ⊎ (s - 52 ≤ k)
        → (k + 53 ≤ s) ⊎ ((k + 52 ≡ s) × (k % 52 ≡ 0))
    by_last z m many (inl n) = inl (omega arith)
    by_last z m many (inr n) = inr (omega arith, omega (arith, z))

    by_turn : (s < 52) ⊎ (52 ≤ s) → (s % 52 ≡ 0) ⊎ (s % 52 ≢ 0) → (k + 53 ≤ s) ⊎ ((k + 52 ≡ s) × (k % 52 ≡ 0))
    by_turn (inl few) turn = none (inl few)
    by_turn (inr many) (inr z) = none (inr z)
    by_turn (inr many) (inl z) =
        let all : length (filter (is_complete (207 * s)) (range_with_len 0 s)) ≡ s - 52 + 1 =
        ap length (complete_parts s ∙ ap (λ (xs : List ℕ). front ++ xs) (complete_last s many z))
        ∙ length-append front ((s - 52) ∷ []) ∙ ap (λ n. n + 1) (length-range_with_len 0 (s - 52)) in
        by_last z (omega (arith, l, all)) many (cases_lt k (s - 52))

-- a packet that is given is that of a word that is there
given_there : (bytes : List ℕ) (s k : ℕ) → length bytes ≡ 207 * s → k < length (run_packets bytes)
    → IsComplete 207 52 4 (length bytes) k
unfolding run_packets
given_there bytes s k e l =
    subst (λ n. IsComplete 207 52 4 n k) (sym e) (complete_all s k (counted s k (omega (arith, l, all))))
  where
    whole : (s : ℕ) → 207 * s / 207 ≡ s
    whole s = omega arith

    all : length (map (received_at bytes) (filter (is_complete (length bytes)) (range_with_len 0 (length bytes / 207))))
        ≡ length (filter (is_complete (207 * s)) (range_with_len 0 s))
    all = grind (arith, length-map)

-- and each word that is there gives one
there_given : (bytes : List ℕ) (k : ℕ) → IsComplete 207 52 4 (length bytes) k
    → slice_get (run_packets bytes) k ≡ Some (received_at bytes k)
there_given bytes k c = sym (grind (arith, append-nil, zero-add))
    ∙ middle_at [] (run_packets bytes) [] k (received_at bytes k) (λ other. number_at bytes k other c)

-- ---- a known word

-- gives its correction's data
known_given : (bytes : List ℕ) (k : ℕ) (code : List ℕ) → known_word bytes k ≡ Some code
    → slice_get (run_packets bytes) k ≡ Some (received_as bytes k code)
unfolding received_at
known_given bytes k code e =
    let known = known_parts bytes k code e in
    there_given bytes k ((complete_told (length bytes) k).0 known.complete)
    ∙ ap (λ found. Some (received_by (187 * (k % 312)) (word_at 207 52 4 bytes k) found)) known.corrected

-- and a packet that isn't flagged is that of a known word
by_found : (from : ℕ) (word : List ℕ) (found : Option (List ℕ)) → (received_by from word found).good ≡ true
    → (code : List ℕ) × (found ≡ Some code)
by_found from word None good = cc
by_found from word (Some code) good = (code, refl)

good_known : (bytes : List ℕ) (s k : ℕ) (old : Received) → length bytes ≡ 207 * s
    → slice_get (run_packets bytes) k ≡ Some old → old.good ≡ true → (code : List ℕ) × (known_word bytes k ≡ Some code)
unfolding received_at
good_known bytes s k old e at good =
    let there : IsComplete 207 52 4 (length bytes) k =
    given_there bytes s k e (slice_get_within (run_packets bytes) k old at) in
    let same : received_at bytes k ≡ old = same_Some (received_at bytes k) old (sym (there_given bytes k there) ∙ at) in
    let found : (code : List ℕ) × (correction 207 187 (word_at 207 52 4 bytes k) ≡ Some code) =
    by_found (187 * (k % 312)) (word_at 207 52 4 bytes k) (correction 207 187 (word_at 207 52 4 bytes k))
    (ap (λ (r : Received). r.good) same ∙ good) in (
      found.0,
      known_from bytes k found.0 (record {
        complete = (complete_told (length bytes) k).1 there;
        corrected = found.1;
      }),
    )

-- ---- rounds

-- that words that are known of a capture's segments stay known
abbrev pub WordsStay : Type 0
WordsStay = (scale r n k : ℕ) (symbols : List ℤ) (code : List ℕ) → 0 < scale → scale ≤ 18
    → known_word (bytes_in (refined scale symbols r)) k ≡ Some code
    → known_word (bytes_in (refined scale symbols (r + n))) k ≡ Some code

refined_packets : (scale r : ℕ) (symbols : List ℤ) → 0 < scale → AreInFields (acquired scale symbols)
    → all_packets (refined scale symbols r) ≡ run_packets (bytes_in (refined scale symbols r))
refined_packets scale r symbols some h = grind (arith, packets_of_run, fields_refined)

pub known_received : WordsStay → (scale r n k : ℕ) (symbols : List ℤ) (code : List ℕ) → 0 < scale → scale ≤ 18
    → AreInFields (acquired scale symbols) → known_word (bytes_in (refined scale symbols r)) k ≡ Some code
    → slice_get (all_packets (refined scale symbols (r + n))) k
    ≡ Some (received_as (bytes_in (refined scale symbols (r + n))) k code)
known_received stay scale r n k symbols code some most h e = grind (arith, refined_packets, known_given)

pub good_stay : WordsStay → (scale r n : ℕ) (symbols : List ℤ) → 0 < scale → scale ≤ 18
    → AreInFields (acquired scale symbols)
    → StayGood (all_packets (refined scale symbols r)) (all_packets (refined scale symbols (r + n)))
good_stay stay scale r n symbols some most h k old at good =
    let before : List ℕ = bytes_in (refined scale symbols r) in
    let own : slice_get (run_packets before) k ≡ Some old =
    sym (ap (λ (xs : List Received). slice_get xs k) (refined_packets scale r symbols some h)) ∙ at in
    let known : (code : List ℕ) × (known_word before k ≡ Some code) =
    good_known before (4 * level_groups (levels_in (refined scale symbols r))) k old
    (bytes_count (refined scale symbols r)) own good in
    let new : Received = received_as (bytes_in (refined scale symbols (r + n))) k known.0 in
    let same : new.packet ≡ old.packet = ap (λ (r : Received). r.packet)
    (same_Some (received_as before k known.0) old (sym (known_given before k known.0 known.1) ∙ own)) in
    (new, known_received stay scale r n k symbols known.0 some most h known.1, refl, same)

-- those of the acquired segments, which are the ones before the first round
pub acquired_stay : WordsStay → (scale r : ℕ) (symbols : List ℤ) → 0 < scale → scale ≤ 18
    → AreInFields (acquired scale symbols)
    → StayGood (all_packets (acquired scale symbols)) (all_packets (refined scale symbols r))
unfolding refined rounds_of
acquired_stay stay scale r symbols some most h =
    subst (λ n. StayGood (all_packets (acquired scale symbols)) (all_packets (refined scale symbols n))) (zero-add r)
    (good_stay stay scale 0 r symbols some most h)
