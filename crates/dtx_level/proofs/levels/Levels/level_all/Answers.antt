use Rattle.std.proofs.Common.{◌≡◌, ◌<◌, pos, get_or, set, length, ap, ◌∙◌, arith, rules, below_more, length-set}
use Rattle.std.proofs.Common.{to_z, of_z, w8}
use Rattle.std.proofs.lemmas.Int.{to_z-of_z}
use Rattle.std.proofs.lemmas.List.{get_or-set_other, get_or-set_same}
use Rattle.dtx_level.specs.Levelled.{By, level}
use Rattle.dtx_level.proofs.Bounds.{level_small, same_byte}
use Rattle.dtx_level.proofs.Each.{each_is}
use Rattle.dtx_level.proofs.levels.Levels.level_all.Goals as goal

pub loop-i-preserved : goal.loop-i-preserved
loop-i-preserved c =
    let by : By = record {
      begun = c.args.self.now.begun;
      gain = c.args.self.now.gain;
      constant = c.args.self.now.constant;
    } in
    let symbol = get_or c.args.symbols.now c.loop-i.i (pos 0) in
    let value : to_z w8 (of_z w8 c.level.result) ≡ level by symbol =
    ap (λ x. to_z w8 (of_z w8 x)) (c.level.ensures ∙ ap (level by) (to_z-of_z w8 symbol (search rules)))
    ∙ same_byte (level by symbol) (level_small by symbol) in
    let room : c.loop-i.i < length c.loop-i.out = omega (arith, c.loop-i.invariant.long, c.loop-i-test.true) in
    let new = to_z w8 (of_z w8 c.level.result) in
    record {
      long = length-set c.loop-i.out c.loop-i.i new ∙ c.loop-i.invariant.long;
      done = below_more (λ k. get_or (set c.loop-i.out c.loop-i.i new) k (pos 0)
          ≡ level by (get_or c.args.symbols.now k (pos 0))) c.loop-i.i
          (λ k l. get_or-set_other c.loop-i.out c.loop-i.i k new (pos 0) (omega arith) ∙ c.loop-i.invariant.done k l)
          (get_or-set_same c.loop-i.out c.loop-i.i new (pos 0) room ∙ value);
    }

pub returns : goal.returns
returns c =
    each_is (level (record {
      begun = c.args.self.now.begun;
      gain = c.args.self.now.gain;
      constant = c.args.self.now.constant;
    })) c.args.symbols.now c.loop-i.out c.loop-i.invariant.long
    (λ k l. c.loop-i.invariant.done k (omega (arith, l, c.loop-i-test.false)))
