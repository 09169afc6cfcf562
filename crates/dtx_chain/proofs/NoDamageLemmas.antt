-- Undamaged segments of a stream are slightly damaged ones.
use Rattle.std.proofs.Common.{◌≡◌, ◌⊎◌, inl, inr, ℕ, ℤ, zero, suc, ◌+◌, ◌-◌, ◌*◌, ◌/◌, ◌<◌, ◌≤◌, List, [], ◌∷◌, length}
use Rattle.std.proofs.Common.{take, drop, get_or, refl, sym, ap, subst, ◌∙◌, arith}
use Rattle.std.specs.Prelude.{slice_range}
use Rattle.std.proofs.lemmas.Bool.{cases_lt, cond-true, eq-eqb}
use Rattle.std.proofs.lemmas.List.{length-take, length-drop, get_or-take, get_or-drop}
use Rattle.dtx_frame.specs.Detection.{looks_like}
use Rattle.dtx_frame.proofs.CountsLemmas.{sum_is, total_zeros}
use Rattle.dtx_outer.specs.Inner.{IsComplete, word_at}
use Rattle.dtx_coder.specs.Stream.{a53}
use Rattle.dtx_coder.proofs.CountsLemmas.{a53_segment}
use Rattle.dtx_receiver.specs.Bytes.{data_count, groups_of, bytes_in}
use Rattle.dtx_chain.specs.Damage.{ArePackets, IsNear, damage_at, damaged_symbols, AreReceived, IsSlight, to_sync}
use Rattle.dtx_chain.specs.Damage.{from_sync, packet_behind, word_in}
use Rattle.dtx_chain.proofs.PlacesLemmas.{syncs_look}
use Rattle.dtx_chain.proofs.SlightLemmas.{sent_within, sent_at, sync_first, none_earlier}
use Rattle.dtx_chain.proofs.FromSyncLemmas.{IsThere, word_there}

-- ---- what is received

-- a part has no more than there is
take_own : (n : ℕ) (xs : List (List ℤ)) → take n xs ≡ take (length (take n xs)) xs
take_own zero xs = refl
take_own (suc n) [] = refl
take_own (suc n) (x ∷ xs) = ap (λ (ys : List (List ℤ)). x ∷ ys) (take_own n xs)

pub are_received : (ps : List (List ℕ)) (first : ℕ) (sent : List (List ℤ))
    → sent ≡ slice_range (a53 ps) first (first + length sent) → AreReceived ps first sent sent
are_received ps first sent e = grind (arith, length-take, length-drop, get_or-take, get_or-drop, a53_segment)

pub part_received : (ps : List (List ℕ)) (first end : ℕ)
    → AreReceived ps first (slice_range (a53 ps) first end) (slice_range (a53 ps) first end)
part_received ps first end =
    let n : ℕ = length (take (end - first) (drop first (a53 ps))) in
    are_received ps first (slice_range (a53 ps) first end) (grind (arith, take_own))

-- ---- no symbol is damaged

none_damaged : (segment : List ℤ) → damaged_symbols segment segment ≡ 0
unfolding damaged_symbols damage_at
none_damaged segment = sum_is (damage_at segment segment) 0 515 ∙ total_zeros (damage_at segment segment) 0 515
    (λ i _ _. grind (arith, cond-true, eq-eqb))

-- ---- each word is near

-- from the first field sync on they stand in the stream
pub is_there : (ps : List (List ℕ)) (first : ℕ) (sent : List (List ℤ)) → AreReceived ps first sent sent
    → to_sync first < length sent → IsThere ps ((first + to_sync first) / 313) (from_sync first sent)
unfolding from_sync
is_there ps first sent r l =
    let at : 313 * ((first + to_sync first) / 313) ≡ first + to_sync first = omega (arith, sync_first first) in
    let less = length-drop (to_sync first) sent in
    let all = sent_within ps first sent sent r (omega (arith, l)) in
    record {
      some = omega (arith, l, less);
      within = omega (arith, l, less, at, all);
      same = λ i m.
          get_or-drop (to_sync first) sent i []
          ∙ sent_at ps first sent sent r (to_sync first + i) (omega (arith, m, less))
          ∙ ap (λ n. get_or (a53 ps) n []) (omega (arith, at));
    }

-- where there is none, no word is complete
pub no_groups : (first : ℕ) (sent : List (List ℤ)) → length sent ≤ to_sync first → groups_of (from_sync first sent) ≡ 0
unfolding from_sync groups_of data_count
no_groups first sent l = grind (arith, length-drop)

near_at : (ps : List (List ℕ)) (first : ℕ) (sent : List (List ℤ)) (j : ℕ) → AreReceived ps first sent sent
    → ArePackets ps → IsComplete 207 52 4 (828 * groups_of (from_sync first sent)) j
    → (to_sync first < length sent) ⊎ (length sent ≤ to_sync first)
    → IsNear ps (packet_behind first + j) (word_in first sent j)
unfolding word_in packet_behind
near_at ps first sent j r p c (inl l) = grind (arith, word_there, is_there)
near_at ps first sent j r p c (inr l) =
    let e = no_groups first sent l in let h = c 0 (omega arith) in absurd (omega (arith, e, h))

pub is_slight : (ps : List (List ℕ)) (first : ℕ) (sent : List (List ℤ)) → AreReceived ps first sent sent
    → ArePackets ps → IsSlight ps first sent sent
is_slight ps first sent r p = record {
  found = record {
    syncs = λ i m z.
        ap looks_like (sent_at ps first sent sent r i m) ∙ syncs_look ps (first + i) (grind (arith, sent_within)) z;
    before = λ i _ _. omega (arith, none_damaged (get_or sent i []));
  };
  words = λ j c. near_at ps first sent j r p c (cases_lt (to_sync first) (length sent));
}

-- ---- damage before the first field sync alone

pub slight_before : (ps : List (List ℕ)) (first : ℕ) (sent got : List (List ℤ)) → AreReceived ps first sent got
    → ArePackets ps → from_sync first got ≡ from_sync first sent
    → ((i : ℕ) → i < length sent → i < to_sync first → damaged_symbols (get_or sent i []) (get_or got i []) ≤ 31)
    → IsSlight ps first sent got
unfolding word_in from_sync
slight_before ps first sent got r p same few = record {
  found = record {
    syncs = λ i m z. elim (cases_lt i (to_sync first)) [
      | inl l ↦ absurd (none_earlier first i l z)
      | inr l ↦
          let e : to_sync first + (i - to_sync first) ≡ i = omega (arith, l) in
          ap looks_like (grind (arith, get_or-drop)) ∙ own.found.syncs i m z
    ];
    before = few;
  };
  words = λ j c.
      subst (IsNear ps (packet_behind first + j))
      (ap (λ (xs : List (List ℤ)). word_at 207 52 4 (bytes_in xs) j) (sym same)) (own.words j (rw (← same) c));
}
  where
    own : IsSlight ps first sent sent
    own = is_slight ps first sent (are_received ps first sent r.in_a_row) p
