use Rattle.std.proofs.Common.{◌≡◌, sym, subst, rules, length, pos}
use Rattle.dtx_plan.specs.declared.damage.Damage.{Damage}
use Rattle.dtx_lists.proofs.FirstOf.{FailBefore, position_is, position_none, before_next}
use Rattle.dtx_recipes.specs.Hurt.{ends_past, first_past}
use Rattle.dtx_packet_jobs.proofs.past_end.first_past.Goals as goal

pub loop-i-preserved : goal.loop-i-preserved
loop-i-preserved c =
    before_next (ends_past c.args.bytes) c.args.damage.now c.loop-i.i c.get.result c.loop-i.invariant c.get.ensures
    (search rules)

pub returns-then-ends_past : goal.returns-then-ends_past
unfolding first_past
returns-then-ends_past c =
    sym (position_is (ends_past c.args.bytes) c.args.damage.now c.loop-i.i c.get.result c.get.ensures
    c.loop-i.invariant (search rules))

an_entry : Damage
an_entry = record { at = 0; count = 0; put = pos 0 }

pub returns : goal.returns
unfolding first_past
returns c =
    let all : c.loop-i.i ≡ length c.args.damage.now = search rules in
    sym (position_none (ends_past c.args.bytes) c.args.damage.now an_entry
    (subst (FailBefore (ends_past c.args.bytes) c.args.damage.now) all c.loop-i.invariant))
