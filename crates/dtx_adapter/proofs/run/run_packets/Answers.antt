use Rattle.std.proofs.Common.{◌-◌, ◌%◌, [], arith, sym, ◌∙◌}
use Rattle.dtx_adapter.proofs.Runs.{none_behind, fewer_behind, none_more}
use Rattle.dtx_adapter.proofs.run.run_packets.Goals as goal

pub loop-i-init : goal.loop-i-init
loop-i-init c = none_behind c.args.packets.now 4 (omega arith)

pub returns-then-is_placeholder-clause-later : goal.returns-then-is_placeholder-clause-later
returns-then-is_placeholder-clause-later c =
    fewer_behind c.args.packets.now c.loop-i.i (c.loop-i.i - c.loop-i.i % 4) (omega arith) (omega arith)
    c.loop-i.invariant

pub loop-i-preserved : goal.loop-i-preserved
loop-i-preserved c =
    none_more c.args.packets.now c.loop-i.i [] (omega arith) (omega arith)
    (sym c.is_placeholder.ensures ∙ c.if-is_placeholder.false) c.loop-i.invariant
