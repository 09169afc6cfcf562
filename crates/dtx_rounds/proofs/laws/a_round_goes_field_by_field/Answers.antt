use Rattle.std.proofs.Common.{sym, ◌+◌, ◌*◌, ◌∙◌}
use Rattle.dtx_receiver.specs.Bytes.{bytes_in}
use Rattle.dtx_rounds.proofs.FieldRounds.{field_of_rounded}
use Rattle.dtx_rounds.proofs.RunWords.{known_entry}
use Rattle.dtx_rounds.proofs.laws.a_round_goes_field_by_field.Goals as goal

pub returns : goal.returns
returns c = record {
  segments = λ scale f heard given known h. sym (field_of_rounded scale heard given known f
      (λ n l. h n l ∙ sym (known_entry (bytes_in given) (64584 * f + n))));
}
