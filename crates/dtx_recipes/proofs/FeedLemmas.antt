-- Laws of the feed of a stream: the feed of its first packets is a prefix of the feed of all.
use Rattle.std.proofs.Common.{◌≡◌, ℕ, ◌%◌, List, [], ◌++◌, length, drop, refl, sym, ap, ◌∙◌, arith}
use Rattle.std.proofs.lemmas.Grind.{flat_map-append}
use Rattle.dtx_adapter.proofs.FeedsLemmas.{feed_parts}
use Rattle.dtx_adapter.specs.Feed.{feed, feed_to}
use Rattle.dtx_engine.specs.Made.{AreFrontsOf, only}
use Rattle.dtx_meaning.specs.Meaning.{IsFrontOf}
use Rattle.dtx_packets.proofs.PacketLemmas.{packets_of-append}
use Rattle.dtx_packets.specs.Packets.{packets_of}
use Rattle.dtx_plan.specs.declared.plan.Plan.{Plan}
use Rattle.dtx_recipes.specs.Adapt.{feeding, bytes_of_packets, feed_bytes}

pub bytes_of_packets-append : (a b : List (List ℕ))
    → bytes_of_packets (a ++ b) ≡ bytes_of_packets a ++ bytes_of_packets b
bytes_of_packets-append a b = flat_map-append (λ (p : List ℕ). p) a b

-- the feed of no packets is empty
pub feed_bytes_none : (plan : Plan) → feed_bytes plan [] ≡ []
unfolding feed feed_to
feed_bytes_none plan = refl

-- the feed of two parts of a stream, the second behind the first
pub feed_bytes-parts : (plan : Plan) (stream more : List (List ℕ)) → feed_bytes plan (stream ++ more)
    ≡ feed_bytes plan stream ++ bytes_of_packets (drop (length stream) (feed plan (stream ++ more)))
feed_bytes-parts plan stream more = grind (arith, feed_parts, bytes_of_packets-append)

-- no bytes give no feed
pub feeding_starts : (plan : Plan) → (feeding plan).made [] ≡ only []
feeding_starts plan = ap only (feed_bytes_none plan)

front_feed : (plan : Plan) (a b : List ℕ) → length a % 188 ≡ 0
    → IsFrontOf (feed_bytes plan (packets_of a)) (feed_bytes plan (packets_of (a ++ b)))
front_feed plan a b whole = (
  bytes_of_packets (drop (length (packets_of a)) (feed plan (packets_of a ++ packets_of b))),
  sym (feed_bytes-parts plan (packets_of a) (packets_of b)) ∙ ap (feed_bytes plan) (sym (packets_of-append a b whole)),
)

-- more bytes add to the feed, and change nothing of what was made before
pub feeding_grows : (plan : Plan) (a b : List ℕ) → length a % 188 ≡ 0
    → AreFrontsOf ((feeding plan).made a) ((feeding plan).made (a ++ b))
feeding_grows plan a b whole = (front_feed plan a b whole, ([], refl))
