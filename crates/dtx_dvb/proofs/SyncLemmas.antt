-- The sync bytes of a stream.
use Rattle.std.proofs.Common.{◌≡◌, ◌≢◌, ℕ, ◌+◌, ◌-◌, ◌*◌, ◌%◌, ◌<◌, ◌⊎◌, ◌==◌, nat_le, cond, List, [], length, get_or}
use Rattle.std.proofs.Common.{bit_xor, inl, inr, sym, ap, ◌∙◌, arith}
use Rattle.std.proofs.lemmas.Bool.{cases_eq, cond-true, cond-false, eq-eqb, ne_eqb, le-leb}
use Rattle.std.proofs.lemmas.List.{get_or-take, get_or-drop}
use Rattle.dtx_laws.proofs.InterleavingLemmas.{get_or-interleaved}
use Rattle.dtx_dvb.specs.Randomizer.{randomizer_byte}
use Rattle.dtx_dvb.proofs.RandomizerLemmas.{byte_first, byte_sync}
use Rattle.dtx_dvb.specs.Stream.{randomized, blocks, dvb}
use Rattle.dtx_dvb.proofs.StreamLemmas.{get_or-randomized, length-blocks}
use Rattle.dtx_dvb.specs.Damage.{ArePackets, block_in}
use Rattle.dtx_dvb.proofs.BackLemmas.{block_begins, block_there, packet_at}

-- the first byte of block k
first_byte : (ps : List (List ℕ)) (k : ℕ) → k < length ps
    → get_or (blocks ps) (204 * k) 0 ≡ get_or (randomized k (get_or ps k [])) 0 0
unfolding block_in
first_byte ps k l = ap (λ i. get_or (blocks ps) i 0) (let e : 204 * k ≡ 204 * k + 0 = omega arith in e)
    ∙ sym (get_or-drop (204 * k) (blocks ps) 0 0) ∙ grind (arith, get_or-take, block_there, block_begins)

-- what is added to the sync byte of packet k
added : (k : ℕ) → (k % 8 ≡ 0) ⊎ (k % 8 ≢ 0) → bit_xor 0x47 (randomizer_byte (188 * (k % 8) + 0))
    ≡ cond (k % 8 == 0) 0xb8 0x47
added k (inl e) = grind (arith, byte_first, cond-true, eq-eqb)
added k (inr n) = ap (bit_xor 0x47) (sym (byte_sync (188 * (k % 8) + 0) (λ e. n (omega (arith, e))) (omega arith)))
    ∙ sym (cond-false (k % 8 == 0) 0xb8 0x47 (ne_eqb (k % 8) 0 n))

pub sync_byte : (ps : List (List ℕ)) (k : ℕ) → ArePackets ps → k < length ps
    → get_or (blocks ps) (204 * k) 0 ≡ cond (k % 8 == 0) 0xb8 0x47
sync_byte ps k h l = first_byte ps k l ∙ get_or-randomized k (get_or ps k []) 0 (omega arith)
    ∙ ap (λ x. bit_xor x (randomizer_byte (188 * (k % 8) + 0))) (packet_at ps k h l).2 ∙ added k (cases_eq (k % 8) 0)

-- the first byte of a block isn't delayed
pub sent_sync : (ps : List (List ℕ)) (k : ℕ) → ArePackets ps → k < length ps
    → get_or (dvb ps) (204 * k) 0 ≡ cond (k % 8 == 0) 0xb8 0x47
unfolding dvb
sent_sync ps k h l = get_or-interleaved 12 17 (blocks ps) (204 * k) (omega (arith, l, length-blocks 0 ps))
    ∙ cond-true (nat_le (204 * (204 * k % 12)) (204 * k)) (get_or (blocks ps) (204 * k - 204 * (204 * k % 12)) 0) 0
    (le-leb (204 * (204 * k % 12)) (204 * k) (omega (arith, none k)))
    ∙ ap (λ i. get_or (blocks ps) i 0) (grind (arith, none)) ∙ sync_byte ps k h l
  where
    none : (k : ℕ) → 204 * k % 12 ≡ 0
    none k = omega arith
