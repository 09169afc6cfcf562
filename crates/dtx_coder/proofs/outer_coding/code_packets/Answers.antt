use Rattle.std.proofs.Common.{[], ap, ◌∙◌}
use Rattle.dtx_laws.specs.Branches.{leaving_all, after_all}
use Rattle.dtx_coder.proofs.Packets.{packets_coded}
use Rattle.dtx_coder.proofs.outer_coding.code_packets.Goals as goal

pub returns-clause-bytes : goal.returns-clause-bytes
returns-clause-bytes c =
    c.interleave.ensures.bytes
    ∙ ap (leaving_all 52 c.args.outer.now.branches)
    (c.encode_four.ensures
    ∙ packets_coded (λ p. p.0) c.args.first c.args.outer.now.white c.args.packets.now (record { 0 = [] }) _ _ _ _
    c.requires.white c.told-packets c.data_of.ensures c.data_of-2.ensures c.data_of-3.ensures c.data_of-4.ensures)

pub returns-clause-outer : goal.returns-clause-outer
returns-clause-outer c =
    c.interleave.ensures.branches
    ∙ ap (λ x. record c.args.outer.now { branches = after_all 52 c.args.outer.now.branches x })
    (c.encode_four.ensures
    ∙ packets_coded (λ p. p.0) c.args.first c.args.outer.now.white c.args.packets.now (record { 0 = [] }) _ _ _ _
    c.requires.white c.told-packets c.data_of.ensures c.data_of-2.ensures c.data_of-3.ensures c.data_of-4.ensures)
