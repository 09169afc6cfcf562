use Rattle.std.proofs.Common.{◌≡◌, ℕ, ℤ, ◌+◌, ◌*◌, ◌/◌, ◌≤◌, true, List, ◌∷◌, length, sym, ap, ◌∙◌, subst, arith}
use Rattle.dtx_receiver.specs.Bytes.{bytes_in}
use Rattle.dtx_rounds.specs.Rounds.{fields_in, rounded}
use Rattle.dtx_rounds.specs.RunRounds.{AreAt, IsEnded, IsEndedFirst, given_by, EndsOn}
use Rattle.dtx_rounds.proofs.PassedRounds.{ended_given, ended_next, ended_none, next_run}
use Rattle.dtx_rounds.proofs.RefinedLemmas.{length-rounded}
use Rattle.dtx_rounds.proofs.rounds.+end.Goals as goal

within : (t : ℕ) (given : List (List ℤ)) → t ≡ fields_in given → length given ≤ 313 * t
within t given all = omega (arith, all)

pub returns-in-None-clause-ended : goal.returns-in-None-clause-ended
returns-in-None-clause-ended m c = λ heard given before t run all at.
    ended_none c.args.means.now.decoder heard given before t c.args.rounds.now c.args.field.now c.in-None.ensures.cases

pub returns-then-end_first-clause-ended : goal.returns-then-end_first-clause-ended
returns-then-end_first-clause-ended m c = λ heard given before t run all at.
    let parts = subst (λ rounds. AreAt scale heard given before t rounds) split at in
    let p = c.end_first.ensures.ended heard given before t run all parts.0 parts.1 in
    subst (λ rounds. IsEnded scale heard given before t rounds (c.end_first.new.round ∷ c.end_first.new.rest) true
    c.end_first.new.field) (sym split)
    (ended_given scale heard given before t c.in-Some.round.now c.end_first.new.round c.in-Some.rest.now
    c.end_first.new.rest c.end_first.new.field c.end_first.ensures.off (within t given all)
    (c.end_first.ensures.last heard given before t run all parts.0 c.if-end_first.true)
    (subst (λ b. IsEndedFirst scale heard (rounded scale heard given) (bytes_in given) t
    (given_by c.in-Some.round.now t) c.in-Some.rest.now c.end_first.new.rest b c.end_first.new.field)
    c.if-end_first.true p))
  where
    scale : ℕ
    scale = c.args.means.now.decoder

    split : c.args.rounds.now ≡ c.in-Some.round.now ∷ c.in-Some.rest.now
    split = c.in-Some.ensures.cases.0

pub returns-else-end_first-clause-ended : goal.returns-else-end_first-clause-ended
returns-else-end_first-clause-ended m c = λ heard given before t run all at.
    let parts = subst (λ rounds. AreAt scale heard given before t rounds) split at in
    let p = subst (λ b. IsEndedFirst scale heard (rounded scale heard given) (bytes_in given) t
    (given_by c.in-Some.round.now t) c.in-Some.rest.now c.end_first.new.rest b c.end_first.new.field)
    c.if-end_first.false (c.end_first.ensures.ended heard given before t run all parts.0 parts.1) in
    let long = length-rounded scale heard given in
    let q = rest heard (rounded scale heard given) (bytes_in given) t (next_run scale heard given before
    c.args.means.now.some c.args.means.now.most run) (all ∙ ap (λ n. (n + 312) / 313) (sym long)) p.at in
    subst (λ rounds. IsEnded scale heard given before t rounds (c.end_first.new.round ∷ c.end.new.rounds) c.end.result
    c.end.new.field) (sym split)
    (ended_next scale heard given before t c.in-Some.round.now c.end_first.new.round c.in-Some.rest.now
    c.end_first.new.rest c.end.new.rounds c.end.result c.end_first.new.field c.end.new.field c.end_first.ensures.off
    (within t given all) p q)
  where
    scale : ℕ
    scale = c.args.means.now.decoder

    split : c.args.rounds.now ≡ c.in-Some.round.now ∷ c.in-Some.rest.now
    split = c.in-Some.ensures.cases.0

    rest : EndsOn scale c.end_first.new.rest c.end.new.rounds c.end.result c.end.new.field
    rest =
        subst (λ s. EndsOn s c.end_first.new.rest c.end.new.rounds c.end.result c.end.new.field)
        c.end_first.ensures.scale c.end.ensures.ended
