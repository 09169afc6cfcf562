use Rattle.dtx_words.specs.Names.{symbol_name}
use Rattle.std.proofs.Common.{sym, ◌∙◌}
use Rattle.dtx_top.proofs.Carrying.{past_air, within_air}
use Rattle.dtx_top.proofs.NetAnswers.{damage_of_replay}
use Rattle.dtx_top.proofs.reception.receive_sent.Goals as goal

pub returns-in-Some-clause-carried : goal.returns-in-Some-clause-carried
returns-in-Some-clause-carried g c = λ held file is there serves.
    past_air c.args.receiver.now.damage file c.args.symbols c.in-Some.entry held
    (g.S.Shelf.files c.args.shelf.now) c.ended.result
    (sym c.first_past.ensures ∙ c.in-Some.is) serves is c.ended.ensures

pub returns-in-None-clause-carried : goal.returns-in-None-clause-carried
returns-in-None-clause-carried g c = λ held file is there serves.
    within_air c.args.receiver.now.damage file (symbol_name c.args.receiver.now.from) c.args.symbols held
    (g.S.Shelf.files c.args.shelf.now)
    (g.S.Shelf.files c.receive.new.shelf) c.receive.result (sym c.first_past.ensures
    ∙ c.in-None.is) serves is there c.receive.ensures.carried

pub returns-in-Some-clause-network : goal.returns-in-Some-clause-network
returns-in-Some-clause-network g c =
    rw c.ended.ensures (damage_of_replay c.args.receiver.now.damage c.args.symbols c.in-Some.entry
    (sym c.first_past.ensures ∙ c.in-Some.is))
