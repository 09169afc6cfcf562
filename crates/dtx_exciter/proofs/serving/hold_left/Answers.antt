use Rattle.std.proofs.Common.{rules, ◌≡◌, Option, Result, Ok, ap, subst}
use Rattle.std.specs.Prelude.{ℕ, ℤ, pos, ◌+ℤ◌, ◌-ℤ◌, ◌<ℤ◌}
use Rattle.std.specs.Int.{w16}
use Rattle.std.proofs.lemmas.Int.{to_z-of_z}
use Rattle.dtx_exciter.specs.declared.answers.Why.{Why}
use Rattle.dtx_exciter.specs.Told.{left_of}
use Rattle.dtx_exciter.proofs.Held.{late_left}
use Rattle.dtx_exciter.proofs.serving.hold_left.Goals as goal

pub returns-in-Ok : goal.returns-in-Ok
returns-in-Ok c =
    subst (λ (o : ℤ). ◌≡◌ {A = Result ℕ (Option Why)} (Ok c.in-Ok.left)
    (left_of (pos c.args.max_delay +ℤ o -ℤ pos c.args.delay)))
    (to_z-of_z w16 c.args.entry.offset (search rules)) (ap left_of c.in-Ok.ensures)

pub returns-in-Err : goal.returns-in-Err
returns-in-Err c =
    late_left (pos c.args.max_delay +ℤ c.args.entry.offset) c.args.delay
    (subst (λ (o : ℤ). (pos c.args.max_delay +ℤ o) <ℤ pos c.args.delay)
    (to_z-of_z w16 c.args.entry.offset (search rules)) c.in-Err.ensures)
