-- What is received of undamaged symbols.
use Rattle.std.proofs.Common.{◌≡◌, ℕ, zero, suc, ◌+◌, ◌*◌, ◌/◌, ◌<◌, ◌≤◌, Bool, true, false, List, [], ◌∷◌, length, map}
use Rattle.std.proofs.Common.{get_or, refl, sym, ap, ◌∙◌, arith}
use Rattle.std.specs.List.{range_with_len, filter}
use Rattle.std.proofs.lemmas.List.{append-nil}
use Rattle.dtx_coder.specs.Stream.{whole_groups, a53}
use Rattle.dtx_coder.proofs.BytesLemmas.{length-whole}
use Rattle.dtx_receiver.specs.Packets.{is_complete, run_packets, all_packets, received}
use Rattle.dtx_receiver.specs.declared.batch.Received.{Received}
use Rattle.dtx_receiver.proofs.CompleteLemmas.{complete_told}
use Rattle.dtx_lists.proofs.RangeFilter.{filter-kept, filter-lost}
use Rattle.dtx_chain.specs.Damage.{ArePackets, as_received, as_sent, whole_words}
use Rattle.dtx_chain.proofs.PlacesLemmas.{one_run}
use Rattle.dtx_chain.proofs.LevelsLemmas.{bytes_are}
use Rattle.dtx_chain.proofs.WordsLemmas.{whole_small, packet_back}

pub map-filter_same : {X : Type 0} (f g : ℕ → X) (p : ℕ → Bool) (a n : ℕ)
    → ((i : ℕ) → a ≤ i → i < a + n → p i ≡ true → f i ≡ g i)
    → map f (filter p (range_with_len a n)) ≡ map g (filter p (range_with_len a n))
map-filter_same f g p a zero h = refl
map-filter_same f g p a (suc n) h = by_test (p a) refl (map-filter_same f g p (a + 1) n (λ i l m. grind arith))
  where
    rest : List ℕ
    rest = range_with_len (a + 1) n

    by_test : (t : Bool) → p a ≡ t → map f (filter p rest) ≡ map g (filter p rest)
        → map f (filter p (a ∷ rest)) ≡ map g (filter p (a ∷ rest))
    by_test true e r = grind (arith, filter-kept)
    by_test false e r = ap (map f) (filter-lost p a rest e) ∙ r ∙ sym (ap (map g) (filter-lost p a rest e))

from_words : (ps : List (List ℕ)) → ArePackets ps → run_packets (whole_groups ps) ≡ map (as_sent ps)
    (filter (is_complete (828 * (length ps / 4))) (range_with_len 0 (4 * (length ps / 4))))
unfolding run_packets
from_words ps h = grind (arith, length-whole, map-filter_same, packet_back, complete_told)

pub good_packets : (ps : List (List ℕ)) → 4 ≤ length ps → ArePackets ps
    → all_packets (a53 ps) ≡ map (as_sent ps) (whole_words ps)
unfolding all_packets whole_words
good_packets ps l h = grind (arith, one_run, append-nil, bytes_are, whole_small, from_words)

bytes_back : (ps : List (List ℕ)) (ks : List ℕ) → map (λ (r : Received). r.packet.0) (map (as_sent ps) ks)
    ≡ map (λ k. as_received (get_or ps k [])) ks
unfolding as_sent
bytes_back ps [] = refl
bytes_back ps (k ∷ ks) = ap (λ xs. as_received (get_or ps k []) ∷ xs) (bytes_back ps ks)

pub packets_back : (ps : List (List ℕ)) → 4 ≤ length ps → ArePackets ps
    → received (a53 ps) ≡ map (λ k. as_received (get_or ps k [])) (whole_words ps)
unfolding received
packets_back ps l h = ap (map (λ (r : Received). r.packet.0)) (good_packets ps l h) ∙ bytes_back ps (whole_words ps)
