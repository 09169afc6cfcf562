use Rattle.std.proofs.Common.{subst, ◌∙◌}
use Rattle.dtx_engine.specs.Recipe.{IsAnswerOf, Recipe}
use Rattle.dtx_forms.specs.Damaged.{damaged_making}
use Rattle.dtx_recipes.specs.Receive.{receiving}
use Rattle.dtx_forms.specs.Shapes.{segments}
use Rattle.dtx_words.specs.Names.{received_name, symbol_name}
use Rattle.dtx_words.specs.declared.rows.Command.TheVariants.{Receive}
use Rattle.dtx_top.proofs.Carrying.{carried_by}
use Rattle.dtx_top.proofs.ByWords.{known_numbers}
use Rattle.dtx_top.proofs.NetAnswers.{symbols_know, symbols_of_replay}
use Rattle.dtx_top.proofs.reception.receive.Goals as goal

pub returns-in-Ok-clause-carried : goal.returns-in-Ok-clause-carried
returns-in-Ok-clause-carried g c =
    carried_by (g.S.Shelf.files c.args.shelf.now) (g.S.Shelf.files c.carry_to_one.new.shelf) c.carry_to_one.result
    segments _
    (damaged_making c.args.receiver.now.damage receiving) 3 c.received_name.result.now received_name c.as_str.result.now
    (symbol_name c.args.receiver.now.from)
    c.new-engine.ensures.recipe c.received_name.ensures (c.as_str.ensures.value
    ∙ c.symbol_name-name.ensures) c.carry_to_one.ensures.carried

pub returns-in-Ok-clause-network : goal.returns-in-Ok-clause-network
returns-in-Ok-clause-network g c =
    symbols_of_replay c.args.receiver.now c.carry_to_one.result c.carry_to_one.ensures.input
    (subst (λ (r : Recipe). IsAnswerOf r c.carry_to_one.result) c.new-engine.ensures.recipe
    c.carry_to_one.ensures.answer)

pub returns-in-Ok-clause-count : goal.returns-in-Ok-clause-count
returns-in-Ok-clause-count g c =
    known_numbers Receive c.carry_to_one.result (symbols_know c.args.receiver.now.damage c.carry_to_one.result
    (subst (λ (r : Recipe). IsAnswerOf r c.carry_to_one.result) c.new-engine.ensures.recipe
    c.carry_to_one.ensures.answer))
