-- What an adapter keeps of the stream that it was given.
use Rattle.std.specs.Prelude.{ℕ, ◌≡◌, ◌-◌, ◌*◌, ◌/◌, List, length, take}
use Rattle.dtx_coder.specs.Groups as coder
use Rattle.dtx_plan.specs.declared.plan.Plan.{Plan}
use Rattle.dtx_adapter.specs.declared.adapter.Adapter.{Adapter}
use Rattle.dtx_adapter.specs.Feed.{feed}
use Rattle.dtx_adapter.specs.Filling.{Fills}

-- the adapter of a plan that was given these packets of a stream
pub record StandsFor (plan : Plan) (adapter : Adapter) (stream : List (List ℕ)) : Type 0 where
  -- the group of the last packet is at hand
  pub fills : Fills plan adapter.filler stream ((length stream - 1) / 4)
  pub given : adapter.given ≡ length stream
  -- the coder was given the whole groups of the feed
  pub coder : coder.StandsFor adapter.coder (take (4 * (length stream / 4)) (feed plan stream))
