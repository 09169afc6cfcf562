use Rattle.std.proofs.Common.{refl, ap, ◌∙◌}
use Rattle.dtx_laws.specs.Branches.{aligned}
use Rattle.dtx_outer.specs.Inner.{Kept}
use Rattle.dtx_outer.proofs.Runs.{start_stands}
use Rattle.dtx_outer.proofs.inner.Inner.start.Goals as goal

pub returns-clause-stands : goal.returns-clause-stands
returns-clause-stands g c =
    start_stands g.row.N g.row.K g.row.B g.row.M c.args.self.now
    (record {
      white = g.W.Whitener.bytes c.self.inside.whitener;
      branches = g.G.Gather.seen c.align.new.self;
      before = c.self.inside.before;
      waits = c.waited-self-inside.result;
      place = 0;
    })
    c.known.ensures.widths (c.align.ensures
    ∙ ap (λ (d : Kept). aligned d.branches) c.self.view_is) c.waited-self-inside.ensures refl
