use Rattle.std.proofs.Common.{ℕ, ◌<◌, sym, subst, arith, lit<}
use Rattle.std.proofs.lemmas.List.{get_or-replicate, length-replicate}
use Rattle.dtx_part_tests.proofs.slice.behind.Goals as goal

pub group-requires-clause-small : goal.group-requires-clause-small
group-requires-clause-small c = λ i l. subst (λ (n : ℕ). n < 8) (sym (get_or-replicate {A = ℕ} 3312 i 0 0
    (omega (arith, l, length-replicate {A = ℕ} 3312 0)))) (lit< tt)
