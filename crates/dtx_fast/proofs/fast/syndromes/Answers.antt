use Rattle.std.proofs.Common.{get_or}
use Rattle.dtx_fast.proofs.Syndromes.{syndromes_are}
use Rattle.dtx_fast.proofs.fast.syndromes.Goals as goal

pub returns-clause-values : goal.returns-clause-values
returns-clause-values c =
    syndromes_are c.args.k c.args.word.now c.args.parity.now (λ i. get_or c.syndromes.result i 0)
    c.requires.code.longer c.requires.codeword c.syndromes.ensures.values
