use Rattle.std.proofs.Common.{List, ℕ, ◌*◌, ◌∙◌, ap, subst, take, arith}
use Rattle.std.proofs.lemmas.List.{length-take-le}
use Rattle.std.specs.Result.{MatchResult}
use Rattle.dtx_laws.specs.Words.{IsCorrected, IsLeft}
use Rattle.dtx_laws.specs.Whitening.{whitened}
use Rattle.dtx_outer.proofs.inner.give.Goals as goal

pub whiten_to-requires-clause-long : goal.whiten_to-requires-clause-long
whiten_to-requires-clause-long g c =
    length-take-le g.row.K c.args.word.now (omega (arith, c.told-word, c.requires.code.longer))

pub whiten_to-requires-clause-room : goal.whiten_to-requires-clause-room
whiten_to-requires-clause-room g c = c.told-out

pub returns-in-Ok : goal.returns-in-Ok
returns-in-Ok g c = λ gathered m.
    record {
      code = c.args.word.now;
      corrected = subst (λ r. MatchResult r (IsCorrected g.row.N g.row.K gathered c.args.word.now)
          (λ _. IsLeft g.row.N g.row.K gathered c.args.word.now)) c.in-Ok.is m;
      bytes = c.whiten_to.ensures;
    }

pub returns-in-Err : goal.returns-in-Err
returns-in-Err g c = λ gathered m.
    let left : IsLeft g.row.N g.row.K gathered c.args.word.now =
    subst (λ r. MatchResult r (IsCorrected g.row.N g.row.K gathered c.args.word.now)
    (λ _. IsLeft g.row.N g.row.K gathered c.args.word.now)) c.in-Err.is m in
    record {
      none = left.none;
      bytes = c.whiten_to.ensures
          ∙ ap (λ (word : List ℕ). whitened (g.W.Whitener.bytes c.args.whitener.now) (g.row.K * c.args.place)
          (take g.row.K word)) left.same;
    }
