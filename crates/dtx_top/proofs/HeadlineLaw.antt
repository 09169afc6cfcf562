-- The headline for every plan and stream, in the form of `dtx_network`'s law.
use Rattle.std.specs.Prelude.{ℕ, List}
use Rattle.dtx_network.specs.Network.{Headline}
use Rattle.dtx_network.specs.Plans.{IsPlan, IsStream}
use Rattle.dtx_plan.specs.declared.event.Event.{Event}
use Rattle.dtx_plan.specs.declared.plan.Plan.{Plan}

abbrev pub HeadlineLaw : Type 0
HeadlineLaw = (plan : Plan) (stream : List (List ℕ)) (events : List Event) → IsPlan plan → IsStream stream
    → Headline plan stream events
