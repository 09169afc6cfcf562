use Rattle.std.proofs.Common.{ap, ap₂, ◌∙◌}
use Rattle.dtx_laws.specs.Branches.{Branching, leaving_all, after_all}
use Rattle.dtx_outer.specs.Outer.{Held}
use Rattle.dtx_outer.proofs.outer.Outer.interleave.Goals as goal

pub returns-clause-bytes : goal.returns-clause-bytes
returns-clause-bytes g c =
    c.pass.ensures.bytes ∙ ap (λ (d : Held). leaving_all g.row.B d.branches c.args.bytes.now) c.self.view_is

pub returns-clause-branches : goal.returns-clause-branches
returns-clause-branches g c =
    ap₂ (λ (d : Held) (v : Branching). record d { branches = v }) c.self.view_is
    (c.pass.ensures.seen ∙ ap (λ (d : Held). after_all g.row.B d.branches c.args.bytes.now) c.self.view_is)
