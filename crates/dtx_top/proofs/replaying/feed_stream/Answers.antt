use Rattle.std.proofs.Common.{subst}
use Rattle.dtx_engine.specs.Recipe.{IsAnswerOf, Recipe}
use Rattle.dtx_forms.specs.Shapes.{packets}
use Rattle.dtx_recipes.specs.Adapt.{feeding}
use Rattle.dtx_words.specs.Names.{feed_name}
use Rattle.dtx_words.specs.declared.rows.Command.TheVariants.{Code}
use Rattle.dtx_top.proofs.Carrying.{carried_by}
use Rattle.dtx_top.proofs.ByWords.{known_numbers}
use Rattle.dtx_top.proofs.NetAnswers.{stream_knows, stream_of_replay}
use Rattle.dtx_top.proofs.replaying.feed_stream.Goals as goal

pub returns-in-Ok-clause-carried : goal.returns-in-Ok-clause-carried
returns-in-Ok-clause-carried g c =
    carried_by (g.S.Shelf.files c.args.shelf.now) (g.S.Shelf.files c.carry_to_one.new.shelf) c.carry_to_one.result
    packets _
    (feeding c.args.plan.now) 1 c.feed_name.result.now feed_name c.as_str.result.now c.args.network.now.stream
    c.in-Ok.ensures.recipe c.feed_name.ensures c.as_str.ensures
    c.carry_to_one.ensures.carried

pub returns-in-Ok-clause-network : goal.returns-in-Ok-clause-network
returns-in-Ok-clause-network g c =
    stream_of_replay c.args.plan.now c.args.network.now.receive c.carry_to_one.result
    c.carry_to_one.ensures.input
    (subst (λ (r : Recipe). IsAnswerOf r c.carry_to_one.result)
    c.in-Ok.ensures.recipe c.carry_to_one.ensures.answer)

pub returns-in-Ok-clause-count : goal.returns-in-Ok-clause-count
returns-in-Ok-clause-count g c =
    known_numbers Code c.carry_to_one.result (stream_knows c.args.plan.now c.carry_to_one.result
    (subst (λ (r : Recipe). IsAnswerOf r c.carry_to_one.result)
    c.in-Ok.ensures.recipe c.carry_to_one.ensures.answer))
