use Rattle.std.proofs.Common.{◌≡◌, ◌⊎◌, ℕ, ◌+◌, ◌-◌, ◌/◌, ◌%◌, ◌≤◌, ◌++◌, List, length, take, drop, refl, ap, sym}
use Rattle.std.proofs.Common.{subst, ◌∙◌, arith, length-append, length-take-le, length-drop, append-nil}
use Rattle.dtx_coder.specs.Stream.{states}
use Rattle.std.proofs.lemmas.Slice.{take-put_mid, drop-put_mid}
use Rattle.dtx_adapter.specs.Feed.{placeholders, feed}
use Rattle.dtx_adapter.specs.Filling.{Fills}
use Rattle.dtx_adapter.proofs.FeedsLemmas.{placeholders-few}
use Rattle.dtx_adapter.proofs.MakingLemmas.{made_none}
use Rattle.dtx_adapter.proofs.Runs.{rest_on, part_on, fed_on, filled_on, begins, at_hand, tells}
use Rattle.dtx_adapter.proofs.run.make_run.Goals as goal

pub loop-done-init : goal.loop-done-init
unfolding placeholders
loop-done-init c = record {
  within = omega arith;
  whole = λ more. refl;
  rest = refl;
  filled = refl;
  few = omega arith;
  fills = λ plan stream fills long whole.
      subst (λ s. Fills plan c.args.filler.now s ((length s - 1) / 4)) (sym (append-nil stream)) fills;
  fed = λ plan stream fills long whole told. made_none plan stream;
}

pub overflow_add-filled : goal.overflow_add-filled
overflow_add-filled c =
    let done = c.loop-done.done in
    let part = take (c.min-end.result - done) (drop done c.loop-done.packets) in
    omega (
      arith,
      c.loop-done.invariant.few,
      c.make_group-filled.ensures.filled,
      placeholders-few part,
      length-take-le (c.min-end.result - done) (drop done c.loop-done.packets) (omega (
        arith,
        c.min-end.ensures,
        length-drop done c.loop-done.packets,
      )),
    )

pub loop-done-preserved : goal.loop-done-preserved
loop-done-preserved c =
    let h = c.loop-done.invariant in
    let done = c.loop-done.done in
    let end = c.min-end.result in
    let n = end - done in
    let old = c.args.packets.now in
    let cur = c.loop-done.packets in
    let new = c.make_group-filled.new.packets in
    let first = c.args.first in
    let sum : done + n ≡ end = omega (arith, c.min-end.ensures, c.loop-done-test.true) in
    let few : n ≤ 4 = omega (arith, c.min-end.ensures) in
    let groups : done % 4 ≡ 0 = h.whole (omega (arith, c.loop-done-test.true, c.loop-done.auto.packets)) in
    let group : List (List ℕ) = take n (drop done old) in
    let is : take n (drop done cur) ≡ group = ap (take n) h.rest in
    let size : length group ≡ n =
    length-take-le n (drop done old) (omega (
      arith,
      c.min-end.ensures,
      c.loop-done.auto.packets,
      length-drop done old,
    )) in
    let long : length new ≡ n = c.make_group-filled.auto.packets ∙ ap length is ∙ size in
    let within : done ≤ length cur = omega (arith, c.loop-done-test.true) in
    let before : (stream : List (List ℕ)) → length stream ≡ first → length (stream ++ take done old) ≡ first + done =
    λ stream l. omega (arith, l, length-append stream (take done old), length-take-le done old h.within) in
    let here : (f : ℕ) → f % 4 ≡ 0 → (f + done) % 4 ≡ 0 = λ f w. omega (arith, groups, w) in
    let filled : c.make_group-filled.result ≡ placeholders group =
    c.make_group-filled.ensures.filled ∙ ap placeholders is in
    record {
      within = omega (arith, c.min-end.ensures, c.loop-done.auto.packets);
      whole = λ more. omega (arith, more, c.min-end.ensures, c.loop-done.auto.packets, groups);
      rest = drop-put_mid done n cur new end (omega (arith, sum)) within long
          ∙ rest_on old cur done n end sum h.rest;
      filled = filled_on old done n end c.loop-done.filled c.make_group-filled.result sum h.filled filled;
      few = omega (arith, h.few, filled, placeholders-few group, size, sum);
      fills = λ plan stream fills l w.
          let so_far = stream ++ take done old in
          let begun = begins plan c.loop-done.filler c.begin.new.self so_far c.args.told (first + done)
          (h.fills plan stream fills l w) (before stream l) (here first w) c.begin.ensures in
          subst (λ s. Fills plan c.make_group-filled.new.filler s ((length s - 1) / 4))
          (part_on stream old done n end sum)
          (at_hand plan c.make_group-filled.new.filler (so_far ++ group) (first + done) n (here first w)
          (omega (arith, sum, c.min-end.ensures, c.loop-done-test.true)) few
          (omega (arith, length-append so_far group, size, before stream l))
          (subst (λ g. Fills plan c.make_group-filled.new.filler (so_far ++ g) ((first + done) / 4)) is
          (c.make_group-filled.ensures.fills plan so_far begun (before stream l) (here first w))));
      fed = λ plan stream fills l w told.
          let so_far = stream ++ take done old in
          let begun = begins plan c.loop-done.filler c.begin.new.self so_far c.args.told (first + done)
          (h.fills plan stream fills l w) (before stream l) (here first w) c.begin.ensures in
          let made : new ≡ drop (length so_far) (feed plan (so_far ++ group)) =
          subst (λ g. new ≡ drop (length so_far) (feed plan (so_far ++ g))) is
          (c.make_group-filled.ensures.fed plan so_far begun (before stream l) (here first w)
          (subst (λ g. (placeholders g ≡ 0) ⊎ (c.begin.new.self.states ≡ states (feed plan so_far))) (sym is)
          (tells plan stream old done n c.loop-done.filler c.begin.new.self c.args.told groups c.requires.later
          c.begin.ensures told))) in
          take-put_mid done n cur new end (omega (arith, sum, long)) within
          ∙ fed_on plan stream (take done old) group (stream ++ take end old) (take done cur) new
          (part_on stream old done n end sum) (h.fed plan stream fills l w told) made;
    }
