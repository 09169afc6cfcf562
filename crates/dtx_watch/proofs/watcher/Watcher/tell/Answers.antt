use Rattle.std.proofs.Common.{◌≡◌, ◌+◌, [], Option, option_map, Some, get_or, sym, ap, ◌∙◌}
use Rattle.dtx_ops.specs.declared.fields.Ops.{Ops}
use Rattle.dtx_exciter.specs.Order.{either, ordered}
use Rattle.dtx_exciter.specs.Packets.{reads, read_fields}
use Rattle.dtx_exciter.specs.Step.{bytes_of}
use Rattle.dtx_watch.specs.Clock.{stamp_in}
use Rattle.dtx_watch.proofs.watcher.Watcher.tell.Goals as goal

pub returns-in-Some-clause-latest : goal.returns-in-Some-clause-latest
unfolding reads
returns-in-Some-clause-latest c =
    let place = c.args.self.now.first + c.args.m in
    let order : Some c.in-Some.ops
    ≡ ordered place (reads (get_or (bytes_of c.args.self.now.packets) c.args.m [])) =
    sym c.in-Some.is ∙ c.ordered.ensures.order
    ∙ ap (λ r. ordered place (read_fields r)) c.reading-reading.ensures.reading in
    ap (λ s. record c.args.self.now { latest = Some s }) c.stamp_in.ensures
    ∙ ap (λ (o : Option Ops). record c.args.self.now { latest = either (option_map stamp_in o) c.args.self.now.latest })
    order

pub returns-in-Some-clause-order : goal.returns-in-Some-clause-order
unfolding reads
returns-in-Some-clause-order c =
    let place = c.args.self.now.first + c.args.m in
    ap (option_map (λ (o : Ops). o.states))
    (sym c.in-Some.is ∙ c.ordered.ensures.order
    ∙ ap (λ r. ordered place (read_fields r)) c.reading-reading.ensures.reading)

pub returns-in-None-clause-latest : goal.returns-in-None-clause-latest
unfolding reads
returns-in-None-clause-latest c =
    let place = c.args.self.now.first + c.args.m in
    ap (λ (o : Option Ops). record c.args.self.now { latest = either (option_map stamp_in o) c.args.self.now.latest })
    (sym c.in-None.is ∙ c.ordered.ensures.order
    ∙ ap (λ r. ordered place (read_fields r)) c.reading-reading.ensures.reading)

pub returns-in-None-clause-order : goal.returns-in-None-clause-order
unfolding reads
returns-in-None-clause-order c =
    let place = c.args.self.now.first + c.args.m in
    ap (option_map (λ (o : Ops). o.states))
    (sym c.in-None.is ∙ c.ordered.ensures.order
    ∙ ap (λ r. ordered place (read_fields r)) c.reading-reading.ensures.reading)
