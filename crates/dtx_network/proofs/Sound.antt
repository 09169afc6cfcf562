-- The feed of a plan and a stream is sound.
use Rattle.std.proofs.Common.{ℕ, ◌<◌, List, [], length, take, get_or, refl, arith}
use Rattle.std.proofs.lemmas.Bool.{cases_Bool, eqb-true, eqb-false}
use Rattle.dtx_ops.proofs.RefusingLemmas.{reading_other}
use Rattle.dtx_ops.specs.Reading.{reading}
use Rattle.dtx_plan.specs.declared.plan.Plan.{Plan}
use Rattle.dtx_adapter.specs.Feed.{ops_at, feed}
use Rattle.dtx_adapter.proofs.FeedsLemmas.{length-feed}
use Rattle.dtx_adapter.proofs.ReadingsLemmas.{sync_fed, said_states}
use Rattle.dtx_watch.specs.Sound.{SaysAt, IsSoundAt, IsSoundFeed}
use Rattle.dtx_network.specs.Plans.{IsPlan, IsStream}
use Rattle.dtx_network.proofs.Orders.{operations_read, other_stays}
use Rattle.dtx_network.proofs.Listings.{mark_told}

says : (plan : Plan) (stream : List (List ℕ)) (k : ℕ) → k < 624000000
    → SaysAt plan.start plan.max_delay (feed plan stream) k (ops_at plan stream (take k (feed plan stream)) k)
unfolding ops_at
says plan stream k l = record {
  index = refl;
  states_are = said_states plan stream k;
  stamp = refl;
  max_delay = refl;
  frame = refl;
  few = omega (arith, l);
}

sound_at : (plan : Plan) (stream : List (List ℕ)) (k : ℕ) → IsPlan plan → IsStream stream → k < length stream
    → IsSoundAt plan.start plan.max_delay (feed plan stream) k (reading (get_or (feed plan stream) k []))
sound_at plan stream k p s l =
    grind (arith, cases_Bool, operations_read, eqb-true, says, reading_other, other_stays, eqb-false)

pub sound : (plan : Plan) (stream : List (List ℕ)) → IsPlan plan → IsStream stream
    → IsSoundFeed plan.start plan.max_delay (feed plan stream)
sound plan stream p s = grind (arith, length-feed, sync_fed, mark_told, says, sound_at)
