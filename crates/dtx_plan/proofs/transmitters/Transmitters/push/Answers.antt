use Rattle.std.proofs.Common.{rules, sym, subst, ◌∙◌}
use Rattle.dtx_plan.specs.TransmitterTable.{ArePlaces}
use Rattle.dtx_plan.proofs.Places.{more_placed, same_placed}
use Rattle.dtx_plan.proofs.transmitters.Transmitters.push.Goals as goal

pub invariant_of-self-then-contains_key : goal.invariant_of-self-then-contains_key
invariant_of-self-then-contains_key c = subst (ArePlaces c.self.inside.places) (sym c.in_ok-push.ensures.items)
    (same_placed c.self.inside.places c.self.inside.all.items c.args.transmitter c.self.invariant
    (sym c.contains_key.ensures ∙ c.if-contains_key.true))

pub invariant_of-self-in-Ok : goal.invariant_of-self-in-Ok
invariant_of-self-in-Ok c = subst (ArePlaces c.insert.new.self) (sym c.in_ok-push.ensures.items)
    (more_placed c.self.inside.places c.insert.new.self c.self.inside.all.items c.args.transmitter c.len-place.result
    c.self.invariant (search rules) (sym c.contains_key.ensures ∙ c.if-contains_key.false) c.in-Ok.ensures.updates)
