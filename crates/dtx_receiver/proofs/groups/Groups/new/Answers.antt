use Rattle.std.proofs.Common.{◌<◌, lit<, lit≤, subst, sym, ℕ}
use Rattle.std.proofs.lemmas.List.{get_or-replicate, length-replicate}
use Rattle.dtx_receiver.proofs.groups.Groups.new.Goals as goal

pub invariant_of-result : goal.invariant_of-result
invariant_of-result c = (
  λ d l. subst (λ (n : ℕ). n < 8) (sym (get_or-replicate {A = ℕ} 3312 d 0 0
      (subst (λ (n : ℕ). d < n) (length-replicate {A = ℕ} 3312 0) l))) (lit< tt),
  lit≤ tt,
)
