use Rattle.std.proofs.Common.{◌++◌, length, ap, ◌∙◌, zero-add}
use Rattle.dtx_make.specs.Hurt.{damaged_bytes}
use Rattle.dtx_make.proofs.LaidLemmas.{damaged_bytes-append}
use Rattle.dtx_make.proofs.laws.laid_in_pieces.Goals as goal

pub returns : goal.returns
returns c = record {
  piece = damaged_bytes-append;
  file = λ damage first rest. damaged_bytes-append damage 0 first rest
      ∙ ap (λ p. damaged_bytes damage 0 first ++ damaged_bytes damage p rest) (zero-add (length first));
}
