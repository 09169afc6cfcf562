use Rattle.std.proofs.Common.{sym, arith}
use Rattle.dtx_plan.specs.declared.event.Event.TheVariants.{Restart}
use Rattle.dtx_schedule.specs.Inside.{first_past_feed, reads_past}
use Rattle.dtx_lists.proofs.FirstOf.{position_is, position_none}
use Rattle.dtx_schedule.proofs.inside.first_past_feed.Goals as goal

pub returns-then-reads_past : goal.returns-then-reads_past
unfolding first_past_feed
returns-then-reads_past c = grind (arith, position_is)

pub returns : goal.returns
unfolding first_past_feed
returns c = sym (position_none (reads_past c.args.packets) c.args.events.now (Restart 0) (λ k e l. grind arith))
