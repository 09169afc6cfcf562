use Rattle.std.proofs.Common.{sym, ◌∙◌}
use Rattle.dtx_exciter.proofs.Apart.{from_stretch, lines_apart}
use Rattle.dtx_exciter.proofs.laws.same_everywhere.Goals as goal

pub returns-clause-segments : goal.returns-clause-segments
returns-clause-segments c =
    λ a b delay_a delay_b offset_a offset_b feed earlier_a earlier_b mark_a mark_b end k f g s t.
    from_stretch a delay_a offset_a feed earlier_a mark_a end k f s
    ∙ sym (from_stretch b delay_b offset_b feed earlier_b mark_b end k g t)

pub returns-clause-moments : goal.returns-clause-moments
returns-clause-moments c = lines_apart
