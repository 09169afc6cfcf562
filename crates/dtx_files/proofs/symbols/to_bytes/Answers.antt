use Rattle.std.proofs.Common.{◌≡◌, map, sym, ap, ◌∙◌, arith, rules}
use Rattle.std.proofs.lemmas.Grind.{common_steps}
use Rattle.std.proofs.lemmas.List.{take_all}
use Rattle.dtx_files.specs.Symbols.{byte_of_symbol}
use Rattle.dtx_files.proofs.symbols.to_bytes.Goals as goal

pub loop-i-preserved : goal.loop-i-preserved
loop-i-preserved c = record { long = search rules; done = grind (arith, common_steps) }

pub returns : goal.returns
returns c =
    let all : c.loop-i.i ≡ 4160 = omega (arith, c.loop-i-test.false, c.loop-i.auto.i-end) in
    sym (take_all c.loop-i.i c.loop-i.bytes (omega (arith, c.loop-i.invariant.long, all)))
    ∙ c.loop-i.invariant.done
    ∙ ap (map byte_of_symbol) (take_all c.loop-i.i c.args.symbols.now (omega (arith, c.told-symbols, all)))
