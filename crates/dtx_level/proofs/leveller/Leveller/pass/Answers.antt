use Rattle.std.proofs.Common.{◌+◌, map, take}
use Rattle.std.proofs.lemmas.Bool.{cond-true}
use Rattle.dtx_level.specs.Levelled.{By, level}
use Rattle.dtx_level.proofs.leveller.Leveller.pass.Goals as goal

pub returns-then-self : goal.returns-then-self
returns-then-self c =
    let inside = c.self.inside in
    let by : By = record {
      begun = inside.giver.levels.begun;
      gain = inside.giver.levels.gain;
      constant = inside.giver.levels.constant;
    } in
    let silent = cond-true inside.giver.levels.begun inside.silent (inside.silent + c.args.count) c.if-self.true in
    let given = cond-true inside.giver.levels.begun (map (level by) (take c.args.count inside.held))
    (take inside.giver.count inside.giver.given.items) c.if-self.true in
    rw (← c.self.view_is) (cc (
      silent,
      given,
      c.give.ensures.given,
      c.give.ensures.held,
      c.give.ensures.begun,
      c.give.ensures.gain,
      c.give.ensures.constant,
    ))

pub returns-else-self : goal.returns-else-self
returns-else-self c = rw (← c.self.view_is) (rw c.if-self.false (cc c.leave.ensures))
