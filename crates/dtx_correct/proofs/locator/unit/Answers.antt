use Rattle.std.proofs.Common.{ℕ, ◌∙◌, arith, replicate}
use Rattle.std.proofs.lemmas.List.{get_or-set_other, get_or-set_same, length-set}
use Rattle.dtx_galois.proofs.BytesLemmas.{bytes_zeros}
use Rattle.dtx_correct.proofs.Kept.{zeros_at, bytes_set}
use Rattle.dtx_correct.proofs.locator.unit.Goals as goal

pub returns : goal.returns
returns c =
    let zeros = replicate {A = ℕ} 128 0 in
    record {
      own = get_or-set_same zeros c.args.k 1 0 c.requires;
      others = λ j d. get_or-set_other zeros c.args.k j 1 0 d ∙ zeros_at 128 j;
      bytes = bytes_set zeros c.args.k 1 (bytes_zeros 128) (omega arith);
      long = length-set zeros c.args.k 1;
    }
