use Rattle.std.proofs.Common.{◌≡◌, refl, subst, sym}
use Rattle.dtx_words.specs.Names.{line_name}
use Rattle.dtx_top.specs.NetNames.{names_for, told_name}
use Rattle.dtx_top.proofs.NetNames.{name_replayed, none_again, of_told}
use Rattle.dtx_top.proofs.NetProgresses.{stream_untouched}
use Rattle.dtx_top.proofs.net_command.net_apart.Goals as goal

pub returns-in-Some-clause-progress : goal.returns-in-Some-clause-progress
returns-in-Some-clause-progress g c =
    stream_untouched c.args.plan.now c.args.network.now _ (g.S.Shelf.files c.args.shelf.now) _ refl

pub returns-in-None-clause-name : goal.returns-in-None-clause-name
returns-in-None-clause-name g c =
    let name = c.args.name.now in
    let status = c.net_replayed.result.outcome.status in
    of_told (g.S.Shelf.files c.args.shelf.now) _
    (subst (λ kept. told_name name status kept
    ≡ line_name status (names_for status name c.args.plan.now c.args.network.now)) (sym c.net_replayed.ensures.name)
    (name_replayed name c.args.plan.now c.args.network.now status c.net_replayed.ensures.network
    (none_again _ _ _ c.repeated_file.ensures c.in-None.is)))
