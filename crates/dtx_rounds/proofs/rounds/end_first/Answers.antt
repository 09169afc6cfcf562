use Rattle.std.proofs.Common.{◌≡◌, ℕ, ◌+◌, ◌-◌, true, sym, subst, ◌∙◌, arith}
use Rattle.std.proofs.lemmas.Bool.{true≢false}
use Rattle.dtx_receiver.specs.Bytes.{bytes_in}
use Rattle.dtx_rounds.specs.Rounds.{rounded}
use Rattle.dtx_rounds.specs.RunField.{IsRounded}
use Rattle.dtx_rounds.specs.RunRounds.{AreAt, IsEndedFirst, given_by, given_count, PassesOn}
use Rattle.dtx_rounds.proofs.PassedRounds.{first_given, first_off, first_on, given_off, given_on, next_run}
use Rattle.dtx_rounds.proofs.RefinedLemmas.{length-rounded}
use Rattle.dtx_rounds.proofs.rounds.end_first.Goals as goal

pub returns-then-finish-clause-ended : goal.returns-then-finish-clause-ended
returns-then-finish-clause-ended c = λ heard given before t run all is at.
    let held = is.on on in
    let back : t - 1 + 1 ≡ t = omega (arith, held.0) in
    let turned = (c.finish.ensures.last on heard given before (t - 1) run.long run.stays
    (omega (arith, all, held.0)) (omega (arith, all, held.0)) held.1).turned in
    let long = length-rounded scale heard given in
    let p = rest heard (rounded scale heard given) (bytes_in given) (t - 1)
    (next_run scale heard given before c.args.means.now.some c.args.means.now.most run)
    (omega (arith, all, held.0, long))
    (subst (λ n. AreAt scale heard (rounded scale heard given) (bytes_in given) n c.args.rest.now)
    (given_on c.args.round.now t on) at) turned in
    subst (λ n. IsEndedFirst scale heard (rounded scale heard given) (bytes_in given) t n c.args.rest.now
    c.pass.new.rounds c.pass.result c.pass.new.field) (sym (given_on c.args.round.now t on))
    (first_on scale heard (rounded scale heard given) (bytes_in given) t (t - 1) c.args.rest.now c.pass.new.rounds
    c.pass.result c.pass.new.field back c.pass.auto.rounds p)
  where
    scale : ℕ
    scale = c.args.means.now.decoder

    on : c.args.round.now.on ≡ true
    on = sym c.finish.ensures.had ∙ c.if-finish.true

    rest : PassesOn scale c.args.rest.now c.finish.new.field c.pass.new.rounds c.pass.result c.pass.new.field
    rest =
        subst (λ s. PassesOn s c.args.rest.now c.finish.new.field c.pass.new.rounds c.pass.result c.pass.new.field)
        c.finish.ensures.scale c.pass.ensures.passed

pub returns-else-finish-clause-ended : goal.returns-else-finish-clause-ended
returns-else-finish-clause-ended c = λ heard given before t run all is at.
    first_off c.args.means.now.decoder heard (rounded c.args.means.now.decoder heard given) (bytes_in given) t
    (given_by c.args.round.now t) c.args.rest.now c.finish.new.field
    (given_off c.args.round.now t (sym c.finish.ensures.had ∙ c.if-finish.false)) at

pub returns-then-finish-clause-last : goal.returns-then-finish-clause-last
returns-then-finish-clause-last c = λ heard given before t run all is true none.
    let on = sym c.finish.ensures.had ∙ c.if-finish.true in
    let held = is.on on in
    let turned = c.finish.ensures.last on heard given before (t - 1) run.long run.stays
    (omega (arith, all, held.0)) (omega (arith, all, held.0)) held.1 in
    subst (λ n. IsRounded c.args.means.now.decoder heard given (given_count n c.args.rest.now) c.pass.new.field)
    (sym (given_on c.args.round.now t on))
    (first_given c.args.means.now.decoder (t - 1) heard given c.args.rest.now c.finish.new.field c.pass.new.field
    c.pass.ensures.still turned none)

pub returns-else-finish-clause-last : goal.returns-else-finish-clause-last
returns-else-finish-clause-last c = λ heard given before t run all is wrong none. absurd (true≢false (sym wrong))
