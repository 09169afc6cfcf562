use Rattle.std.proofs.Common.{length, ap, ◌∙◌, arith}
use Rattle.dtx_rounds.specs.Rounds.{heard_of}
use Rattle.dtx_refine.proofs.Steps.{field_cost_is}
use Rattle.dtx_refine.proofs.passes.Passes.set.Goals as goal

pub returns : goal.returns
returns c = λ symbols t some most is.
    c.a_capture_begins_as_it_was_acquired.ensures.field c.args.acquirer.now.scale t symbols c.set.new.self some most
    c.set.ensures.words
    (c.set.ensures.count ∙ ap length c.heard.ensures ∙ c.requires.same ∙ ap length is.given_are)
    (c.set.ensures.heard ∙ c.heard.ensures ∙ is.heard_are)
    (c.set.ensures.decided ∙ c.given.ensures ∙ is.given_are)
    (c.set.ensures.cost ∙ c.field_cost.ensures.cost
    ∙ field_cost_is c.args.acquirer.now.scale t (heard_of symbols) c.args.acquirer.now.heard is.heard_are
    (omega (arith, c.requires.same, c.requires.some)))
    c.set.ensures.nothing
