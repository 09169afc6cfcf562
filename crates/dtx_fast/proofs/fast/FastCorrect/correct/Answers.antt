use Rattle.std.proofs.Common.{rules}
use Rattle.dtx_fast.proofs.Parity.{parity_behind, length-parity}
use Rattle.dtx_fast.proofs.fast.FastCorrect.correct.Goals as goal

pub correct_by-requires : goal.correct_by-requires
correct_by-requires g c =
    let again = c.encoded_again-code.ensures in (
      search rules,
      (
        search rules,
        (
          parity_behind g.row.N g.row.K c.args.word.now c.encoded_again-code.result again.codeword again.begins,
          length-parity g.row.N g.row.K c.encoded_again-code.result again.codeword,
        ),
      ),
    )
