use Rattle.std.proofs.Common.{◌≡◌, ◌+◌, ◌-◌, ◌*◌, ◌≤◌, ◌++◌, length, take, drop, refl}
use Rattle.std.proofs.Common.{ap, subst, ◌∙◌, arith}
use Rattle.std.proofs.lemmas.List.{length-append, length-take-le, length-drop, take_all}
use Rattle.dtx_engine.specs.Made.{only}
use Rattle.dtx_engine.specs.Recipe.{IsFed}
use Rattle.dtx_recipes.specs.Adapt.{feeding}
use Rattle.dtx_packet_jobs.specs.Feeding.{HasFed}
use Rattle.dtx_packet_jobs.proofs.Feeding.{counted_of, fed_none, rest_fed, part_fed}
use Rattle.dtx_packet_jobs.proofs.feeder.FeederEngine.feed.Goals as goal
use borrow.Rule.Slice.PartMut.{put_mid}

pub loop-done-init : goal.loop-done-init
loop-done-init c =
    let given = c.requires.given in
    let count : c.args.self.now.count ≡ c.args._first = omega (arith, given.2.count, given.1) in
    record {
      within = omega arith;
      whole = refl;
      groups = λ more. omega (arith, count, c.requires.grouped);
      counted = counted_of c.args.self.now given.0 given.2;
      count = omega (arith, count);
      plan = refl;
      rest = refl;
      fed = λ before long is. fed_none (feeding c.args.self.now.plan.now) before (HasFed c.args.self.now) is;
    }

pub loop-done-preserved : goal.loop-done-preserved
loop-done-preserved c =
    let h = c.loop-done.invariant in
    let done = c.loop-done.done in
    let end = c.min-end.result in
    let n = end - done in
    let old = c.args.bytes.now in
    let cur = c.loop-done.bytes in
    let new = c.part.new.bytes in
    let state = c.loop-done.self in
    let sum : done + n ≡ end = omega (arith, c.min-end.ensures, c.part_left.ensures, c.loop-done-test.true) in
    let part : length (take n (drop done cur)) ≡ n =
    length-take-le n (drop done cur) (omega (arith, c.min-end.ensures, length-drop done cur)) in
    let long : length new ≡ n = c.part.auto.bytes ∙ part in
    let within : done ≤ length cur = omega (arith, c.loop-done-test.true) in
    record {
      within = omega (arith, c.min-end.ensures, c.loop-done.auto.bytes);
      whole = omega (arith, c.min-end.ensures, h.whole, c.requires.whole, c.loop-done.auto.bytes);
      groups = λ more. omega (
        arith,
        more,
        c.min-end.ensures,
        c.loop-done.auto.bytes,
        c.part.ensures.count,
        c.part_left.ensures,
        part,
        h.groups (omega (arith, c.loop-done-test.true, c.loop-done.auto.bytes)),
      );
      counted = c.part.ensures.counted;
      count = omega (arith, c.part.ensures.count, part, h.count, h.whole, sum);
      plan = c.part.ensures.plan ∙ h.plan;
      rest = subst (λ k. drop k (put_mid done n cur new) ≡ drop k old) sum
          (rest_fed done n old cur new within long h.rest);
      fed = λ given size is.
          let before : length (given ++ take done old) ≡ 188 * state.count =
          omega (
            arith,
            length-append given (take done old),
            size,
            length-take-le done old h.within,
            h.count,
            h.whole,
          ) in
          subst (λ k. IsFed (feeding c.args.self.now.plan.now) given (take k old) (HasFed c.part.new.self)
          (only (take k (put_mid done n cur new)))) sum
          (part_fed (feeding c.args.self.now.plan.now) given old cur new done n (HasFed state) (HasFed c.part.new.self)
          within long h.rest (h.fed given size is)
          (λ stands. subst (λ p. IsFed (feeding p.now) (given ++ take done old) (take n (drop done cur))
          (HasFed c.part.new.self) (only new)) h.plan (c.part.ensures.fed (given ++ take done old) before stands)));
    }

pub returns-clause-kept : goal.returns-clause-kept
returns-clause-kept c = ap (λ p. feeding p.now) c.loop-done.invariant.plan

pub returns-clause-fed : goal.returns-clause-fed
returns-clause-fed c = λ given long is.
    let done = c.loop-done.done in
    let old = c.args.bytes.now in
    let cur = c.loop-done.bytes in
    let all : length old ≤ done = omega (arith, c.loop-done-test.false, c.loop-done.auto.bytes) in
    subst (λ b. IsFed (feeding c.args.self.now.plan.now) given b (HasFed c.loop-done.self) (only cur))
    (take_all done old all)
    (subst (λ y. IsFed (feeding c.args.self.now.plan.now) given (take done old) (HasFed c.loop-done.self) (only y))
    (take_all done cur (omega (arith, all, c.loop-done.auto.bytes))) (c.loop-done.invariant.fed given long is))
