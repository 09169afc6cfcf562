-- The packets of a feed have 188 bytes, and each of them is a byte.
use Rattle.std.proofs.Common.{◌≡◌, inl, inr, ℕ, suc, ◌+◌, ◌<◌, List, [], ◌∷◌, length, take, get_or, sym, subst, arith}
use Rattle.std.specs.List.{AllByRecursion}
use Rattle.std.proofs.lemmas.Bool.{cases_Bool, cond-true, cond-false, eqb-true}
use Rattle.dtx_galois.specs.Field.{AreBytes}
use Rattle.dtx_galois.proofs.BytesLemmas.{bytes_append}
use Rattle.dtx_laws.proofs.ChoiceLemmas.{codeword_is, codeword_length}
use Rattle.dtx_packets.specs.Packets.{pid_of}
use Rattle.dtx_cadence.specs.Mark.{sync_at, marked}
use Rattle.dtx_ops.specs.Spelling.{IsValid, data_of, spelling}
use Rattle.dtx_ops.specs.declared.fields.Ops.{Ops}
use Rattle.dtx_ops.proofs.DataLemmas.{length-data_of, AreBytes-data_of}
use Rattle.dtx_ops.proofs.ReadingsLemmas.{read_as}
use Rattle.dtx_plan.specs.declared.plan.Plan.{Plan}
use Rattle.dtx_adapter.specs.Feed.{is_placeholder, ops_at, counter_at, as_feed_packet, fed_packet, feed}
use Rattle.dtx_adapter.proofs.FeedsLemmas.{length-feed, feed_packet}
use Rattle.dtx_chain.specs.Damage.{ArePackets}
use Rattle.dtx_network.specs.Plans.{IsPlan, IsStream}
use Rattle.dtx_network.proofs.Orders.{operations_read}

abbrev IsPacket : List ℕ → Type 0
IsPacket p = (length p ≡ 188) × AreBytes p

-- by place
all_from_places : {X : Type 0} (P : X → Type 0) (xs : List X) (d : X) → ((k : ℕ) → k < length xs → P (get_or xs k d))
    → AllByRecursion P xs
all_from_places P [] d h = tt
all_from_places P (x ∷ xs) d h = (h 0 (omega arith), all_from_places P xs d (λ k l. h (suc k) (omega arith)))

-- ---- a packet of the feed

small_sync : (k : ℕ) → sync_at k < 256
small_sync k = grind arith

packet_marked : (k : ℕ) (p : List ℕ) → IsPacket p → IsPacket (marked k p)
packet_marked k [] h = h
packet_marked k (x ∷ xs) h = (h.0, (small_sync k, h.1.1))

packet_spelled : (ops : Ops) (counter k : ℕ) → IsValid ops → counter < 16 → IsPacket (spelling ops counter (sync_at k))
unfolding spelling
packet_spelled ops counter k valid l = (
  omega (arith, codeword_length 184 164 (data_of ops), length-data_of ops valid),
  bytes_append (sync_at k ∷ 0x1F ∷ 0xFA ∷ (0x10 + counter) ∷ []) _ (grind (arith, small_sync))
      (codeword_is 184 164 (data_of ops) (omega arith) (length-data_of ops valid) (AreBytes-data_of ops valid)).bytes,
)

packet_made : (ops : Ops) (counter k : ℕ) (p : List ℕ) → IsPacket p → counter < 16 → (pid_of p ≡ 0x1FFA → IsValid ops)
    → IsPacket (as_feed_packet ops counter k p)
unfolding as_feed_packet is_placeholder
packet_made ops counter k p h l valid = elim (cases_Bool (is_placeholder p)) [
  | inl t ↦ subst IsPacket (sym (grind (arith, cond-true))) (packet_spelled ops counter k (grind (arith, eqb-true)) l)
  | inr f ↦ subst IsPacket (sym (cond-false (is_placeholder p) (spelling ops counter (sync_at k)) (marked k p) f))
      (packet_marked k p h)
]

-- ---- all of them

packet_fed : (plan : Plan) (stream : List (List ℕ)) (k : ℕ) → IsPlan plan → IsStream stream → k < length stream
    → IsPacket (get_or (feed plan stream) k [])
unfolding fed_packet counter_at
packet_fed plan stream k p s l = subst IsPacket (sym (feed_packet plan stream k l))
    (packet_made (ops_at plan stream (take k (feed plan stream)) k) (counter_at stream k) k (get_or stream k [])
    (s.long k [] l, s.bytes k [] l) (omega arith)
    (λ e. (read_as (get_or (feed plan stream) k []) (ops_at plan stream (take k (feed plan stream)) k)
    (operations_read plan stream k p s e)).valid))

pub feed_packets : (plan : Plan) (stream : List (List ℕ)) → IsPlan plan → IsStream stream
    → ArePackets (feed plan stream)
feed_packets plan stream p s = all_from_places IsPacket (feed plan stream) []
    (λ k l. packet_fed plan stream k p s (omega (arith, l, length-feed plan stream)))
