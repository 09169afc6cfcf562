use Rattle.std.proofs.Common.{arith}
use Rattle.dtx_spread.specs.declared.columns.TheConstants.{ROWS}
use Rattle.dtx_spread.proofs.Turns.{early_fit, late_fit}
use Rattle.dtx_spread.proofs.rings.count_at.Goals.{then-place-len, else-place-len}
use Rattle.dtx_spread.proofs.rings.count_at.Goals as goal

pub returns-clause-few : goal.returns-clause-few
returns-clause-few g c = elim c.if-place-len.branch [
  | then-place-len w ↦ omega (
    arith,
    w.result-is,
    early_fit g.row.B c.args.len c.args.place ROWS w.if-place-len.true (omega (arith, c.requires.room)),
  )
  | else-place-len w ↦ omega (
    arith,
    w.result-is,
    late_fit g.row.B c.args.len ROWS c.requires.some
        (omega (arith, c.requires.room)),
  )
]
