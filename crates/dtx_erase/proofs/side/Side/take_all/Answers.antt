use Rattle.std.proofs.Common.{◌++◌, ◌∙◌, sym, ap, subst}
use Rattle.dtx_receiver.specs.Bytes.{symbols_in, bytes_in}
use Rattle.dtx_receiver.proofs.GroupedLemmas.{grouped_none}
use Rattle.dtx_erase.specs.Sides.{Side, Holds}
use Rattle.dtx_erase.proofs.Stands.{side, held_passed, further_held}
use Rattle.dtx_erase.proofs.side.Side.take_all.Goals as goal

pub returns-clause-further : goal.returns-clause-further
returns-clause-further c = λ run d e.
    let old = c.self.inside in
    let kept = side old.groups old.gather old.begun old.gathered in
    let here : Holds kept run = subst (λ (k : Side). Holds k run) (sym c.self.view_is) d in
    let laid = c.lay_out-count in
    further_held kept c.pass.new.self c.take_all.new.self laid.result run (run ++ symbols_in c.args.segments.now) here
    (c.take_all.ensures.grouped run (bytes_in run) (grouped_none old.groups run here.levels here.none) e)
    (c.pass.ensures.groups ∙ ap (λ (k : Side). k.groups) laid.ensures.side)
    (held_passed (side c.take_all.new.self old.gather old.begun old.gathered) laid.new.self c.pass.new.self laid.result
    c.self.told.0 laid.ensures.most laid.ensures.side laid.ensures.bytes laid.ensures.long c.pass.ensures.branches
    c.pass.ensures.gathered c.pass.ensures.begun)
