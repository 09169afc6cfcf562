use Rattle.std.proofs.Common.{◌≡◌, ◌≤◌, ◌<◌, ◌/◌, ℕ, ◌+◌, ◌*◌, ◌%◌, List, replicate, length, take, ap, sym, subst}
use Rattle.std.proofs.Common.{◌∙◌, ap₂, [], ◌∷◌, arith}
use Rattle.std.proofs.Math.Seq.{take-length}
use Rattle.dtx_rs.specs.Generator.{word_bytes}
use Rattle.dtx_laws.specs.Register.{register}
use Rattle.dtx_rs.proofs.table.Table.parity_of_four.Goals as goal

step_within : (n step : ℕ) → step < n / 4 → n % 4 + 4 * step + 4 ≤ n
step_within n step l = omega (arith, l)

all_steps : (n step : ℕ) → step ≡ n / 4 → n % 4 + 4 * step ≡ n
all_steps n step e = omega (arith, e)

-- the register's bytes behind all steps
ended : (divisor head words bytes state : List ℕ) (at : ℕ) → bytes ≡ word_bytes words → words ≡ state
    → word_bytes state ≡ register divisor (replicate 20 0) (take at head) → at ≡ length head
    → bytes ≡ register divisor (replicate 20 0) head
ended divisor head words bytes state at e f h l =
    e ∙ ap word_bytes f ∙ h ∙ ap (λ j. register divisor (replicate 20 0) (take j head)) l
    ∙ ap (register divisor (replicate 20 0)) (take-length head)

pub fed_at-of_one-requires-clause-bytes : goal.fed_at-of_one-requires-clause-bytes
fed_at-of_one-requires-clause-bytes c =
    step_within (length c.args.one.now) c.loop-step.step c.loop-step-test.true

pub fed_at-of_two-requires-clause-bytes : goal.fed_at-of_two-requires-clause-bytes
fed_at-of_two-requires-clause-bytes c =
    subst (λ n. length c.args.one.now % 4 + 4 * c.loop-step.step + 4 ≤ n) (sym c.requires.two)
    (step_within (length c.args.one.now) c.loop-step.step c.loop-step-test.true)

pub fed_at-of_three-requires-clause-bytes : goal.fed_at-of_three-requires-clause-bytes
fed_at-of_three-requires-clause-bytes c =
    subst (λ n. length c.args.one.now % 4 + 4 * c.loop-step.step + 4 ≤ n) (sym c.requires.three)
    (step_within (length c.args.one.now) c.loop-step.step c.loop-step-test.true)

pub fed_at-of_four-requires-clause-bytes : goal.fed_at-of_four-requires-clause-bytes
fed_at-of_four-requires-clause-bytes c =
    subst (λ n. length c.args.one.now % 4 + 4 * c.loop-step.step + 4 ≤ n) (sym c.requires.four)
    (step_within (length c.args.one.now) c.loop-step.step c.loop-step-test.true)

pub fed_at-of_one-requires-clause-before : goal.fed_at-of_one-requires-clause-before
fed_at-of_one-requires-clause-before c = c.loop-step.invariant.one

pub fed_at-of_two-requires-clause-before : goal.fed_at-of_two-requires-clause-before
fed_at-of_two-requires-clause-before c = c.loop-step.invariant.two

pub fed_at-of_three-requires-clause-before : goal.fed_at-of_three-requires-clause-before
fed_at-of_three-requires-clause-before c = c.loop-step.invariant.three

pub fed_at-of_four-requires-clause-before : goal.fed_at-of_four-requires-clause-before
fed_at-of_four-requires-clause-before c = c.loop-step.invariant.four

pub loop-step-preserved : goal.loop-step-preserved
loop-step-preserved c =
    let after : List ℕ → ℕ → List ℕ = λ head j. register c.args.self.now.divisor (replicate 20 0) (take j head) in
    let further : length c.args.one.now % 4 + 4 * c.loop-step.step + 4
    ≡ length c.args.one.now % 4 + 4 * (c.loop-step.step + 1) = omega arith in
    record {
      one = c.fed_at-of_one.ensures ∙ ap (after c.args.one.now) further;
      two = c.fed_at-of_two.ensures ∙ ap (after c.args.two.now) further;
      three = c.fed_at-of_three.ensures ∙ ap (after c.args.three.now) further;
      four = c.fed_at-of_four.ensures ∙ ap (after c.args.four.now) further;
    }

pub returns : goal.returns
returns c =
    let divisor : List ℕ = c.args.self.now.divisor in
    let i = c.loop-step.invariant in
    let last : c.loop-step.step ≡ length c.args.one.now / 4 = omega arith in
    let whole : length c.args.one.now % 4 + 4 * c.loop-step.step ≡ length c.args.one.now =
    all_steps (length c.args.one.now) c.loop-step.step last in
    ap₂ ◌∷◌ (ended divisor c.args.one.now _ _ _ _ c.bytes_of.ensures c.joined.ensures i.one whole)
    (ap₂ ◌∷◌
    (ended divisor c.args.two.now _ _ _ _ c.bytes_of-2.ensures c.joined-2.ensures i.two (whole ∙ sym c.requires.two))
    (ap₂ ◌∷◌
    (ended divisor c.args.three.now _ _ _ _ c.bytes_of-3.ensures c.joined-3.ensures i.three
    (whole ∙ sym c.requires.three))
    (ap (λ x. x ∷ [])
    (ended divisor c.args.four.now _ _ _ _ c.bytes_of-4.ensures c.joined-4.ensures i.four
    (whole ∙ sym c.requires.four)))))
