use Rattle.std.proofs.Common.{◌≡◌, ℤ, pos, ◌<◌, get_or, length, ◌∙◌, subst, w8, to_z, of_z, arith, rules}
use mir.Val.{SFits}
use Rattle.std.proofs.lemmas.Int.{ints, to_z-of_z}
use Rattle.std.proofs.lemmas.List.{get_or_default}
use Rattle.dtx_pins.specs.Walks.{sums_of}
use Rattle.dtx_pins.specs.Pins.{pin_at}
use Rattle.dtx_pins.specs.Steps.{IsStep, weight}
use Rattle.dtx_pins.proofs.PinnedWalks.{coder_stepped, multiples_written, step_written}
use Rattle.dtx_pins.proofs.back.step_all.Goals as goal

pub loop-e-preserved : goal.loop-e-preserved
loop-e-preserved c =
    coder_stepped c.args.weights.now.scale c.args.symbols.now c.args.pins.now c.loop-e.e (sums_of c.args.sums.now)
    (sums_of c.loop-e.sums) (sums_of c.put_sums.new.sums) c.loop-e.marks c.stepped.result (omega arith)
    (step_written (weight c.args.weights.now.scale (get_or c.args.symbols.now c.loop-e.e (pos 0)))
    (pin_at c.args.pins.now c.loop-e.e) (sums_of c.args.sums.now c.loop-e.e) c.stepped.new.behind
    (sums_of c.put_sums.new.sums c.loop-e.e) c.stepped.result c.put_sums.ensures.written step)
    (multiples_written c.stepped.new.behind (sums_of c.put_sums.new.sums c.loop-e.e) c.put_sums.ensures.written
    c.stepped.ensures.multiples) (omega (arith, ints, fits), omega (arith, ints, fits)) c.put_sums.ensures.others
    c.loop-e.invariant
  where
    symbol : ℤ
    symbol = get_or c.args.symbols.now c.loop-e.e (pos 0)

    fits : SFits w8 (get_or c.args.symbols.now c.loop-e.e (pos 0))
    fits = search rules

    long : length c.args.pins.now ≡ 12
    long = search rules

    within : c.loop-e.e < length c.args.pins.now
    within = omega (arith, long)

    step : IsStep (weight c.args.weights.now.scale (get_or c.args.symbols.now c.loop-e.e (pos 0)))
        (pin_at c.args.pins.now c.loop-e.e) (sums_of c.args.sums.now c.loop-e.e) c.stepped.new.behind
        c.stepped.result
    step =
        subst (λ v. IsStep (weight c.args.weights.now.scale v) (pin_at c.args.pins.now c.loop-e.e)
        (sums_of c.args.sums.now c.loop-e.e) c.stepped.new.behind c.stepped.result) (to_z-of_z w8 symbol fits)
        (subst (λ pin. IsStep (weight c.args.weights.now.scale (to_z w8 (of_z w8 (get_or c.args.symbols.now c.loop-e.e
        (pos 0))))) pin (sums_of c.args.sums.now c.loop-e.e) c.stepped.new.behind c.stepped.result)
        (get_or_default c.args.pins.now c.loop-e.e 0 4 within)
        (subst (λ old. IsStep (weight c.args.weights.now.scale (to_z w8 (of_z w8 (get_or c.args.symbols.now c.loop-e.e
        (pos 0))))) (get_or c.args.pins.now c.loop-e.e 0) old c.stepped.new.behind c.stepped.result)
        (c.coder_sums-coder.ensures ∙ c.loop-e.invariant.left c.loop-e.e (omega arith)) c.stepped.ensures.step))

pub returns-clause-from : goal.returns-clause-from
returns-clause-from c e l = (c.loop-e.invariant.bytes e (omega arith)).0

pub returns-clause-to : goal.returns-clause-to
returns-clause-to c e l = (c.loop-e.invariant.bytes e (omega arith)).1
