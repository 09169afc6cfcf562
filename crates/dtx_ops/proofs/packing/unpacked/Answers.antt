use Rattle.std.proofs.Common.{◌-◌, ◌*◌, ◌/◌, ◌%◌, ◌^◌, ◌<◌, length-set, ◌∙◌, arith}
use Rattle.std.proofs.Math.Nat.{mod-lt}
use Rattle.std.proofs.lemmas.List.FromFn.{fill_by_all}
use Rattle.std.proofs.lemmas.List.Edits.{fill_by_more}
use Rattle.dtx_ops.specs.Fields.{states_at}
use Rattle.dtx_ops.proofs.packing.unpacked.Goals as goal

pub loop-e-preserved : goal.loop-e-preserved
loop-e-preserved c =
    let before = c.loop-e.invariant in
    record {
      long = length-set c.loop-e.numbers c.loop-e.e _ ∙ before.long;
      states = fill_by_more (λ k. c.args.bits / 2 ^ (37 - 3 * k) % 8) c.loop-e.numbers c.loop-e.e 0
          (omega (arith, before.long, c.loop-e-test.true)) before.states;
    }

pub invariant_of-result : goal.invariant_of-result
invariant_of-result c = λ i l. let e = c.loop-e.invariant.states i (omega (arith, c.loop-e.invariant.long)) in
    let small : c.args.bits / 2 ^ (37 - 3 * i) % 8 < 8 = mod-lt (c.args.bits / 2 ^ (37 - 3 * i)) (omega arith) in
    omega (arith, e, small)

pub returns : goal.returns
unfolding states_at
returns c = fill_by_all (λ k. c.args.bits / 2 ^ (37 - 3 * k) % 8) c.loop-e.numbers 12 0 c.loop-e.invariant.long
    (λ k l. c.loop-e.invariant.states k (omega arith))
