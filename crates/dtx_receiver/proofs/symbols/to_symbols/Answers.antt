use Rattle.std.proofs.Common.{◌≡◌, ℕ, ℤ, List, length, take, sym, ap, ◌∙◌, arith}
use Rattle.std.proofs.lemmas.Grind.{common_steps}
use Rattle.std.proofs.lemmas.List.{take_all}
use Rattle.dtx_receiver.specs.Bytes.{symbols_of}
use Rattle.dtx_receiver.proofs.symbols.to_symbols.Goals as goal

-- all are set
all_set : (bytes : List ℕ) (symbols : List ℤ) (i : ℕ) → i ≡ length bytes → length symbols ≡ length bytes
    → take i symbols ≡ symbols_of (take i bytes) → symbols ≡ symbols_of bytes
all_set bytes symbols i all long done =
    sym (take_all i symbols (omega (arith, long, all))) ∙ done ∙ ap symbols_of (take_all i bytes (omega (arith, all)))

pub loop-i-preserved : goal.loop-i-preserved
loop-i-preserved c = grind (arith, common_steps)

pub returns : goal.returns
returns c =
    all_set c.args.bytes.now c.loop-i.symbols c.loop-i.i (omega (arith, c.loop-i-test.false, c.loop-i.auto.i-end))
    c.loop-i.invariant.long c.loop-i.invariant.done
