use Rattle.std.proofs.Common.{List, ℕ, Bor, ◌∙◌}
use Rattle.dtx_outer.proofs.Coding.{begun_completed}
use Rattle.dtx_outer.proofs.outer.Outer.encode_four.Goals as goal

pub returns : goal.returns
returns g c =
    c.complete_four.ensures
    ∙ begun_completed g.row.N g.row.K c.args.self.now.white c.args.place g.W.Whitener.PERIOD
    (λ (head : Bor (List ℕ)). head.now) c.args.heads.now c.begin_four.new.words c.known.ensures.code
    c.known.ensures.long c.told-heads c.requires.within c.begin_four.ensures
