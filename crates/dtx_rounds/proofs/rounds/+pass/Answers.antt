use Rattle.std.proofs.Common.{◌≡◌, ℕ, ℤ, ◌+◌, ◌-◌, ◌*◌, ◌<◌, ◌≤◌, ◌⊎◌, inl, inr, nat_le, true, false, List, ◌∷◌, length}
use Rattle.std.proofs.Common.{sym, ap, subst, ◌∙◌, arith}
use Rattle.dtx_receiver.specs.Bytes.{bytes_in}
use Rattle.dtx_rounds.specs.Known.{known_word}
use Rattle.dtx_rounds.specs.Rounds.{rounded}
use Rattle.dtx_rounds.specs.RunField.{IsInRun}
use Rattle.dtx_rounds.specs.RunRounds.{AreAt, IsPassed, on_count, PassesOn}
use Rattle.dtx_rounds.proofs.PassedRounds.{full_off, full_on, none_full, given_on, next_run, passed_all, passed_off}
use Rattle.dtx_rounds.proofs.PassedRounds.{passed_on}
use Rattle.dtx_rounds.proofs.RefinedLemmas.{length-rounded}
use Rattle.dtx_rounds.proofs.rounds.+pass.Goals as goal

pub returns-in-None-clause-passed : goal.returns-in-None-clause-passed
returns-in-None-clause-passed m c = λ heard given before t run more at h.
    passed_all c.args.means.now.decoder heard given before t c.args.rounds.now c.args.field.now
    c.in-None.ensures.cases h

pub returns-then-take-clause-passed : goal.returns-then-take-clause-passed
returns-then-take-clause-passed m c = λ heard given before t run more at h.
    let parts = subst (λ rounds. AreAt scale heard given before t rounds) split at in
    let held = parts.0.on on in
    let back : t - 1 + 1 ≡ t = omega (arith, held.0) in
    let both = c.take.ensures.next on heard given before (t - 1) run.long run.stays (omega (arith, more, held.0)) held.1
    (subst (λ n. IsInRun scale heard given (known_word before) n c.args.field.now) (sym back) h) in
    let room : 313 * (t - 1) < length (rounded scale heard given) =
    omega (arith, more, length-rounded scale heard given) in
    let p = rest heard (rounded scale heard given) (bytes_in given) (t - 1)
    (next_run scale heard given before c.args.means.now.some c.args.means.now.most run) room
    (subst (λ n. AreAt scale heard (rounded scale heard given) (bytes_in given) n c.in-Some.rest.now)
    (given_on c.in-Some.round.now t on) parts.1) both.0.turned in
    subst (λ rounds. IsPassed scale heard given before t rounds (c.take.new.self ∷ c.pass.new.rounds) c.pass.result
    c.pass.new.field) (sym split)
    (passed_on scale heard given before t c.in-Some.round.now c.take.new.self c.in-Some.rest.now c.pass.new.rounds
    c.pass.result c.take.new.field c.pass.new.field on held.0 c.take.ensures.on both.1 c.pass.ensures.still both.0 p)
  where
    scale : ℕ
    scale = c.args.means.now.decoder

    on : c.in-Some.round.now.on ≡ true
    on = sym c.take.ensures.had ∙ c.if-take.true

    split : c.args.rounds.now ≡ c.in-Some.round.now ∷ c.in-Some.rest.now
    split = c.in-Some.ensures.cases.0

    rest : PassesOn scale c.in-Some.rest.now c.take.new.field c.pass.new.rounds c.pass.result c.pass.new.field
    rest =
        subst (λ s. PassesOn s c.in-Some.rest.now c.take.new.field c.pass.new.rounds c.pass.result c.pass.new.field)
        c.take.ensures.scale c.pass.ensures.passed

pub returns-else-take-clause-passed : goal.returns-else-take-clause-passed
returns-else-take-clause-passed m c = λ heard given before t run more at h.
    let parts = subst (λ rounds. AreAt scale heard given before t rounds) split at in
    let none = first heard given t more (parts.0.off off) in
    subst (λ rounds. IsPassed scale heard given before t rounds (c.take.new.self ∷ c.in-Some.rest.now) false
    c.take.new.field) (sym split)
    (passed_off scale heard given before t c.in-Some.round.now c.take.new.self c.in-Some.rest.now c.take.new.field off
    none c.take.ensures.on
    (c.take.ensures.first off scale heard given before run.long (omega (arith, more))
    (subst (λ n. IsInRun scale heard given (known_word before) n c.args.field.now) none h)) parts.1)
  where
    scale : ℕ
    scale = c.args.means.now.decoder

    off : c.in-Some.round.now.on ≡ false
    off = sym c.take.ensures.had ∙ c.if-take.false

    split : c.args.rounds.now ≡ c.in-Some.round.now ∷ c.in-Some.rest.now
    split = c.in-Some.ensures.cases.0

    first : (heard given : List (List ℤ)) (t : ℕ) → 313 * t < length given
        → (t ≡ 0) ⊎ (length given ≤ 313 * t) → t ≡ 0
    first heard given t more (inl e) = e
    first heard given t more (inr l) = absurd (omega (arith, more, l))

pub returns-then-take-clause-still : goal.returns-then-take-clause-still
returns-then-take-clause-still m c = λ e. absurd (omega (arith, ap length c.in-Some.ensures.cases.0, e))

pub returns-else-take-clause-still : goal.returns-else-take-clause-still
returns-else-take-clause-still m c = λ e. absurd (omega (arith, ap length c.in-Some.ensures.cases.0, e))

pub returns-in-None-clause-full : goal.returns-in-None-clause-full
returns-in-None-clause-full m c = none_full c.args.rounds.now c.in-None.ensures.cases

pub returns-then-take-clause-full : goal.returns-then-take-clause-full
returns-then-take-clause-full m c =
    c.pass.ensures.full
    ∙ full_on c.in-Some.round.now c.in-Some.rest.now (sym c.take.ensures.had ∙ c.if-take.true)
    ∙ ap (λ rounds. nat_le (length rounds) (on_count rounds)) (sym c.in-Some.ensures.cases.0)

pub returns-else-take-clause-full : goal.returns-else-take-clause-full
returns-else-take-clause-full m c =
    full_off c.in-Some.round.now c.in-Some.rest.now (sym c.take.ensures.had ∙ c.if-take.false)
    ∙ ap (λ rounds. nat_le (length rounds) (on_count rounds)) (sym c.in-Some.ensures.cases.0)
