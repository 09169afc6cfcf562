use Rattle.std.proofs.Common.{◌≡◌, subst}
use Rattle.std.proofs.lemmas.Slice.Eq.{slice_eq-Decides}
use Rattle.std.proofs.lemmas.Bool.Decides.{Decides-eqb}
use Rattle.std.specs.Bool.{Decides}
use Rattle.dtx_laws.specs.Codeword.{IsCodeword}
use Rattle.dtx_laws.proofs.WordsLemmas.{one_codeword}
use Rattle.dtx_erase.proofs.erasing.Erase.is_codeword.Goals as goal

pub returns : goal.returns
returns g c =
    let same : Decides c.eq.result (c.encoded_again.result ≡ c.args.word.now) =
    slice_eq-Decides Decides-eqb c.encoded_again.result c.args.word.now c.eq.result c.eq.ensures in (
      λ h. subst (IsCodeword g.row.N g.row.K) (same.0 h) c.encoded_again.ensures.codeword,
      λ h. same.1 (one_codeword g.row.N g.row.K c.encoded_again.result c.args.word.now c.args.self.now.code.short
          c.encoded_again.ensures.codeword h c.encoded_again.ensures.begins),
    )
