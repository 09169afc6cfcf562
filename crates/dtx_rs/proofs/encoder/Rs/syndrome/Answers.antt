use Rattle.std.proofs.Common.{ap, ◌∙◌}
use Rattle.dtx_galois.specs.Field.{value}
use Rattle.dtx_rs.proofs.encoder.Rs.syndrome.Goals as goal

pub returns : goal.returns
returns g c = c.eval.ensures ∙ ap (value c.args.word.now) c.pow.ensures
