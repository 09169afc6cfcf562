use Rattle.std.proofs.Common.{◌+◌, ◌*◌, ◌<◌, ◌∙◌, get_or, ap, arith}
use Rattle.std.proofs.lemmas.List.{take_all}
use Rattle.std.specs.List.{fold}
use Rattle.dtx_ops.proofs.Bits.{packed_more, below_more_bits, below_36}
use Rattle.dtx_ops.proofs.packing.joined.Goals as goal

pub loop-state-preserved : goal.loop-state-preserved
loop-state-preserved c =
    let h = c.loop-state.invariant in
    let i = c.loop-state.state-index in
    let small : get_or c.args.numbers.now i 0 < 8 = c.requires.small i (omega arith) in
    record {
      value = packed_more c.args.numbers.now i c.loop-state.bits (omega arith) h.value;
      within = below_more_bits i c.loop-state.bits (get_or c.args.numbers.now i 0) h.within small;
    }

pub returns-clause-value : goal.returns-clause-value
returns-clause-value c =
    let all = take_all c.loop-state.state-index c.args.numbers.now (omega arith) in
    c.loop-state.invariant.value ∙ ap (fold (λ before state. 8 * before + state) 0) all

pub returns-clause-within : goal.returns-clause-within
returns-clause-within c =
    below_36 c.loop-state.state-index c.loop-state.bits (omega arith) c.loop-state.invariant.within
