use Rattle.std.proofs.Common.{ℕ, ◌<◌, sym, subst, arith}
use Rattle.std.proofs.lemmas.List.{get_or-replicate, length-replicate}
use Rattle.dtx_part_tests.proofs.frame.each_level_has_its_symbol.Goals as goal

pub data_segment-requires : goal.data_segment-requires
data_segment-requires g c = λ i l. subst (λ (n : ℕ). n < 8) (sym (get_or-replicate {A = ℕ} 828 i c.loop-level.level 0
    (omega (arith, l, length-replicate {A = ℕ} 828 c.loop-level.level)))) c.loop-level-test.true
