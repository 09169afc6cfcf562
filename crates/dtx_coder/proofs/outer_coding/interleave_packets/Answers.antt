use Rattle.std.proofs.Common.{ap, ◌∙◌}
use Rattle.dtx_laws.specs.Branches.{leaving_all, after_all}
use Rattle.dtx_coder.proofs.outer_coding.interleave_packets.Goals as goal

pub returns-clause-bytes : goal.returns-clause-bytes
returns-clause-bytes c =
    c.interleave.ensures.bytes ∙ ap (leaving_all 52 c.args.outer.now.branches) c.encode_packets.ensures

pub returns-clause-outer : goal.returns-clause-outer
returns-clause-outer c =
    c.interleave.ensures.branches
    ∙ ap (λ x. record c.args.outer.now { branches = after_all 52 c.args.outer.now.branches x }) c.encode_packets.ensures
