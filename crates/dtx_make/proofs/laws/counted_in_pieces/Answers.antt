use Rattle.std.proofs.Common.{◌+◌, ap, ◌∙◌, zero-add}
use Rattle.dtx_make.specs.Hurt.{damaged_from}
use Rattle.dtx_make.proofs.DamagedPlacesLemmas.{damaged_from-parts, damaged_from-le-count}
use Rattle.dtx_make.proofs.laws.counted_in_pieces.Goals as goal

pub returns : goal.returns
returns c = record {
  piece = damaged_from-parts;
  file = λ damage first rest. damaged_from-parts damage 0 first rest
      ∙ ap (λ p. damaged_from damage 0 first + damaged_from damage p rest) (zero-add first);
  most = damaged_from-le-count;
}
