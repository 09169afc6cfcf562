use Rattle.std.proofs.Common.{sym, ap, ◌∙◌, cond}
use Rattle.dtx_repeat.specs.Restored.{place_behind}
use Rattle.dtx_repeat.proofs.marks.place_behind.Goals as goal

pub returns-then-is_second : goal.returns-then-is_second
unfolding place_behind
returns-then-is_second c = sym (ap (λ b. cond b 312 0) (sym c.is_second.ensures ∙ c.if-is_second.true))

pub returns-else-is_second : goal.returns-else-is_second
unfolding place_behind
returns-else-is_second c = sym (ap (λ b. cond b 312 0) (sym c.is_second.ensures ∙ c.if-is_second.false))
