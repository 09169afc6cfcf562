-- The packets of a feed have 188 bytes each, as those of its stream have.
use Rattle.std.proofs.Common.{◌≡◌, ℕ, ◌/◌, ◌<◌, ◌≤◌, List, [], length, get_or, arith}
use Rattle.std.specs.List.{All}
use Rattle.std.proofs.lemmas.Bool.{cases_Bool, cond-true, cond-false}
use Rattle.std.proofs.lemmas.List.{length-map, length-set}
use Rattle.std.proofs.lemmas.List.Elements.{All-from_get_or, All-get_or}
use Rattle.dtx_laws.proofs.ChoiceLemmas.{codeword_length}
use Rattle.dtx_ops.proofs.DataLemmas.{data_long}
use Rattle.dtx_ops.specs.Paging.{most_of}
use Rattle.dtx_ops.specs.Spelling.{data_of, spelling}
use Rattle.dtx_ops.specs.declared.fields.Ops.{Ops}
use Rattle.dtx_packets.specs.Packets.{packets_of, whole_packets}
use Rattle.dtx_plan.specs.Sound.{IsSound}
use Rattle.dtx_plan.specs.declared.plan.Plan.{Plan}
use Rattle.dtx_adapter.specs.Feed.{entry_of, filled_groups, listed, paging_of, ops_at, as_feed_packet, fed_packet, feed}
use Rattle.dtx_adapter.proofs.FeedsLemmas.{length-feed, feed_packet}
use Rattle.dtx_adapter.proofs.PagesLemmas.{page_has_place}
use Rattle.dtx_recipes.specs.Adapt.{feed_bytes}
use Rattle.dtx_forms.proofs.FilePacketsLemmas.{IsLong}
use Rattle.dtx_packet_jobs.proofs.PacketFileLemmas.{packets_of-bytes, whole_packets-bytes}

long-spelling : (f : Ops) (counter sync : ℕ) → length f.offsets.items ≤ most_of f.paging
    → IsLong (spelling f counter sync)
unfolding spelling
long-spelling f counter sync few = omega (arith, codeword_length 184 164 (data_of f), data_long f few)

long-made : (ops : Ops) (counter k : ℕ) (p : List ℕ) → length ops.offsets.items ≤ most_of ops.paging
    → IsLong p → IsLong (as_feed_packet ops counter k p)
unfolding as_feed_packet
long-made ops counter k p few long = grind (arith, cases_Bool, cond-true, long-spelling, cond-false, length-set)

-- an operations packet of a feed lists no more transmitters than its page has
few_entries : (plan : Plan) (stream before : List (List ℕ)) (k : ℕ) → IsSound plan
    → length (ops_at plan stream before k).offsets.items ≤ most_of (ops_at plan stream before k).paging
unfolding ops_at
few_entries plan stream before k sound =
    let n : ℕ = filled_groups stream (k / 4) in
    let place = page_has_place plan.transmitters n sound.transmitters.most in
    omega (arith, place.fits, length-map (listed plan.transmitters (paging_of plan.transmitters n)) entry_of)

long-fed : (plan : Plan) (stream : List (List ℕ)) (k : ℕ) → IsSound plan → All IsLong stream → k < length stream
    → IsLong (get_or (feed plan stream) k [])
unfolding fed_packet
long-fed plan stream k sound long within = grind (arith, feed_packet, long-made, few_entries, All-get_or)

long-feed : (plan : Plan) (stream : List (List ℕ)) → IsSound plan → All IsLong stream → All IsLong (feed plan stream)
long-feed plan stream sound long = All-from_get_or IsLong (feed plan stream) []
    (λ k within. long-fed plan stream k sound long (omega (arith, within, length-feed plan stream)))

-- it is read back from its file
pub packets_of-feed_bytes : (plan : Plan) (stream : List (List ℕ)) → IsSound plan → All IsLong stream
    → packets_of (feed_bytes plan stream) ≡ feed plan stream
packets_of-feed_bytes plan stream sound long = packets_of-bytes (feed plan stream) (long-feed plan stream sound long)

pub whole_packets-feed_bytes : (plan : Plan) (stream : List (List ℕ)) → IsSound plan → All IsLong stream
    → whole_packets (feed_bytes plan stream) ≡ length stream
whole_packets-feed_bytes plan stream sound long = grind (arith, whole_packets-bytes, long-feed, length-feed)
