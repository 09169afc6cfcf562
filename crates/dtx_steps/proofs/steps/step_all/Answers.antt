use Rattle.std.proofs.Common.{◌≡◌, ◌+◌, ◌-◌, ◌*◌, ◌/◌, ◌<◌, ◌≤◌, ◌∙◌, ℕ, List, ◌++◌, length, take, drop, ap, sym}
use Rattle.std.proofs.Common.{subst, refl, arith}
use Rattle.std.proofs.lemmas.List.{take_all}
use Rattle.std.proofs.Math.Nat.{div-add-mod, mul-add, mul-zero}
use Rattle.dtx_engine.specs.Made.{joined}
use Rattle.dtx_engine.specs.Recipe.{IsFed, Recipe}
use Rattle.dtx_steps.proofs.Walk.{fed_none, fed_on, given_long, part_left, rest_on, unit_within, units_few, units_left}
use Rattle.dtx_steps.proofs.steps.step_all.Goals as goal

pub loop-done-init : goal.loop-done-init
loop-done-init g c =
    let u = c.args.shape.unit in
    let bytes = c.args.bytes.now in
    let units = length bytes / u in
    let here : c.args.first ≡ c.args.first + 0 = omega arith in
    let all : units ≡ units - 0 = omega arith in
    record {
      within = omega arith;
      rest = refl;
      kept = refl;
      fed = λ given long stand.
          subst (λ n. IsFed (g.S.Step.recipe c.args.step.now) given (take n bytes) (g.S.Step.stands c.args.step.now)
          (g.S.Step.holds c.args.step.now)) (sym (mul-zero u))
          (fed_none (g.S.Step.recipe c.args.step.now) given (g.S.Step.stands c.args.step.now)
          (g.S.Step.holds c.args.step.now) c.requires.empty stand);
      ready = subst (λ n. g.S.Step.is_ready c.args.step.now n (units - 0)) here
          (subst (λ n. g.S.Step.is_ready c.args.step.now c.args.first n) all c.requires.ready);
    }

pub step-done-requires-clause-given : goal.step-done-requires-clause-given
step-done-requires-clause-given g c =
    let some = c.requires.given in
    let done = c.loop-done.done in
    let bytes = c.args.bytes.now in
    let fits = unit_within c.args.shape.unit done bytes c.loop-done.invariant.within in (
      some.0 ++ take (c.args.shape.unit * done) bytes,
      rw (← c.requires.shape) (given_long c.args.shape.unit c.args.first done some.0 bytes fits some.1),
      (c.loop-done.invariant.fed some.0 some.1 some.2).stand,
    )

pub step-done-requires-clause-most : goal.step-done-requires-clause-most
step-done-requires-clause-most g c =
    let u = c.args.shape.unit in
    let done = c.loop-done.done in
    let some = c.requires.sound.unit in
    let left = units_left u done _ c.loop-done.bytes c.args.bytes.now some c.requires.whole c.loop-done.auto.bytes
    refl in
    rw (← c.requires.shape) (omega (
      arith,
      left,
      units_few u c.args.first c.args.shape.limit c.args.bytes.now some c.requires.most,
      c.loop-done.invariant.within,
    ))

pub step-done-requires-clause-ready : goal.step-done-requires-clause-ready
step-done-requires-clause-ready g c =
    let u = c.args.shape.unit in
    let done = c.loop-done.done in
    let left = units_left u done _ c.loop-done.bytes c.args.bytes.now c.requires.sound.unit c.requires.whole
    c.loop-done.auto.bytes refl in
    rw (← c.requires.shape) (subst (λ n. g.S.Step.is_ready c.loop-done.step (c.args.first + done) n) (sym left)
    c.loop-done.invariant.ready)

pub loop-done-preserved : goal.loop-done-preserved
loop-done-preserved g c =
    let u = c.args.shape.unit in
    let done = c.loop-done.done in
    let more = c.step-done.result in
    let all = c.args.bytes.now in
    let bytes = c.loop-done.bytes in
    let before = c.loop-done.invariant in
    let step = rw (← c.requires.shape) at c.step-done.ensures in
    let left = units_left u done (length bytes - u * done) bytes all c.requires.sound.unit c.requires.whole
    c.loop-done.auto.bytes refl in
    let behind : c.args.first + done + more ≡ c.args.first + (done + more) = omega arith in
    let fewer : length (take (length bytes - u * done) (drop (u * done) bytes)) / u - more
    ≡ length all / u - (done + more) =
    omega (arith, left) in
    let fits = unit_within u done all before.within in
    let part = part_left u done (length bytes - u * done) bytes refl ∙ before.rest in
    let recipe = g.S.Step.recipe c.args.step.now in
    let stands = g.S.Step.stands c.step-done.new.self in
    let holds = g.S.Step.holds c.step-done.new.self in
    record {
      within = omega (arith, step.within, left, c.loop-done-test.true);
      rest = rest_on u done more (length bytes - u * done) all bytes c.step-done.new.bytes
          (omega (arith, fits, c.loop-done.auto.bytes)) refl before.rest step.rest;
      kept = step.kept ∙ before.kept;
      fed = λ given long stand.
          let fed = before.fed given long stand in
          let made = subst (λ (r : Recipe). r.made (given ++ take (u * done) all)
          ≡ joined (r.made given) (g.S.Step.holds c.loop-done.step)) (sym before.kept) fed.made in
          let stepped = step.stepped (given ++ take (u * done) all) ((g.S.Step.recipe c.loop-done.step).made given)
          (given_long u c.args.first done given all fits long) fed.stand made in
          fed_on recipe given all (u * done) (u * more) (u * (done + more)) stands holds (sym (mul-add u done more))
          (rw (← before.kept, ← part) stepped);
      ready = subst (λ n. g.S.Step.is_ready c.step-done.new.self n (length all / u - (done + more))) behind
          (subst (λ n. g.S.Step.is_ready c.step-done.new.self (c.args.first + done + more) n) fewer step.ready);
    }

pub returns-clause-kept : goal.returns-clause-kept
returns-clause-kept g c = c.loop-done.invariant.kept

pub returns-clause-fed : goal.returns-clause-fed
returns-clause-fed g c = λ given long stand.
    let u = c.args.shape.unit in
    let bytes = c.args.bytes.now in
    let end : c.loop-done.done ≡ length bytes / u =
    omega (arith, c.loop-done-test.false, c.loop-done.invariant.within) in
    let whole : length bytes ≤ u * c.loop-done.done =
    omega (arith, div-add-mod (length bytes) u, c.requires.whole, ap (λ (n : ℕ). u * n) end) in
    subst (λ b. IsFed (g.S.Step.recipe c.args.step.now) given b (g.S.Step.stands c.loop-done.step)
    (g.S.Step.holds c.loop-done.step)) (take_all (u * c.loop-done.done) bytes whole)
    (c.loop-done.invariant.fed given long stand)
