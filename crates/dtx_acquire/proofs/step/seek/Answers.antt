use Rattle.std.proofs.Common.{◌≡◌, ◌+◌, ◌-◌, Some, None, drop, length, sym, ap, ◌∙◌, arith}
use Rattle.dtx_acquire.specs.Agreement.{agrees, least_from}
use Rattle.dtx_acquire.proofs.AgreementLemmas.{past_end}
use Rattle.dtx_acquire.proofs.PlacesLemmas.{least_gives, least_misses, whole_there}
use Rattle.dtx_acquire.proofs.StepsLemmas.{agrees_dropped}
use Rattle.dtx_acquire.proofs.step.seek.Goals as goal

pub leave-requires : goal.leave-requires
leave-requires c =
    let e : least_from c.args.held.now 0 ≡ Some c.in-Some.place =
    ap (λ s. least_from s 0) (sym c.all.ensures) ∙ sym c.search.ensures ∙ c.in-Some.is in
    let is = least_gives agrees c.args.held.now 0 c.in-Some.place e in
    omega (arith, is.within)

pub returns-in-Some-clause-front : goal.returns-in-Some-clause-front
returns-in-Some-clause-front c = λ on.
    let e : least_from c.args.held.now 0 ≡ Some c.in-Some.place =
    ap (λ s. least_from s 0) (sym c.all.ensures) ∙ sym c.search.ensures ∙ c.in-Some.is in
    let is = least_gives agrees c.args.held.now 0 c.in-Some.place e in
    let all : c.in-Some.place + 0 ≡ c.in-Some.place = omega arith in
    ap (λ s. agrees s 0) c.leave.ensures ∙ agrees_dropped c.args.held.now c.in-Some.place 0 (omega (arith, is.within))
    ∙ ap (agrees c.args.held.now) all ∙ is.passes

pub returns-in-Some-clause-sought : goal.returns-in-Some-clause-sought
returns-in-Some-clause-sought c =
    let e : least_from c.args.held.now 0 ≡ Some c.in-Some.place =
    ap (λ s. least_from s 0) (sym c.all.ensures) ∙ sym c.search.ensures ∙ c.in-Some.is in
    let is = least_gives agrees c.args.held.now 0 c.in-Some.place e in
    let there = whole_there agrees past_end c.args.held.now c.in-Some.place is.passes in
    record {
      count = c.in-Some.place;
      within = omega (arith, there);
      left = c.leave.ensures;
      none = λ place l. (omega (arith, there), is.before place (omega arith) l);
    }

pub returns-in-None-clause-sought : goal.returns-in-None-clause-sought
returns-in-None-clause-sought c =
    let e : least_from c.args.held.now 0 ≡ None =
    ap (λ s. least_from s 0) (sym c.all.ensures) ∙ sym c.search.ensures ∙ c.in-None.is in
    record {
      count = length c.args.held.now - 831;
      within = omega arith;
      left =
          c.leave-in-None.ensures
          ∙ ap (λ n. drop n c.args.held.now) (c.saturating_sub.ensures ∙ ap (λ n. n - 831) c.len-count.ensures.long);
      none = λ place l. (omega arith, least_misses agrees past_end c.args.held.now 0 place e (omega arith));
    }
