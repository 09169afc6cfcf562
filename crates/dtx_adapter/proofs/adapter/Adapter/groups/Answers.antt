use Rattle.std.proofs.Common.{◌≡◌, ℕ, ◌+◌, ◌-◌, ◌≤◌, ◌++◌, List, length, take, drop, refl, ap, sym, subst, ◌∙◌, arith}
use Rattle.std.proofs.lemmas.List.{length-take-le, length-drop, take_all, append-nil}
use Rattle.std.proofs.lemmas.Slice.{take-put_mid, drop-put_mid}
use Rattle.dtx_lists.proofs.Written.{length-put_mid}
use Rattle.dtx_adapter.specs.Adapting.{StandsFor}
use Rattle.dtx_adapter.specs.Feed.{placeholders, feed}
use Rattle.dtx_adapter.proofs.FeedsLemmas.{placeholders-few}
use Rattle.dtx_adapter.proofs.MakingLemmas.{made_none}
use Rattle.dtx_adapter.proofs.Runs.{rest_on, part_on, fed_on, filled_on}
use Rattle.dtx_adapter.proofs.adapter.Adapter.groups.Goals as goal

pub loop-done-init : goal.loop-done-init
unfolding placeholders
loop-done-init c = record {
  within = omega arith;
  whole = λ more. c.requires.open;
  long = refl;
  given = omega arith;
  rest = refl;
  filled = refl;
  few = omega arith;
  stands = λ plan stream stands. subst (StandsFor plan c.args.self.now) (sym (append-nil stream)) stands;
  fed = λ plan stream stands. made_none plan stream;
}

pub overflow_add-filled : goal.overflow_add-filled
overflow_add-filled c =
    let h = c.loop-done.invariant in
    let done = c.loop-done.done in
    let n : ℕ = done + c.run_packets.result - done in
    let part = take n (drop done c.loop-done.packets) in
    omega (
      arith,
      h.few,
      h.long,
      h.within,
      c.run_packets.ensures.within,
      c.requires.most,
      c.run-filled.ensures.filled,
      placeholders-few part,
      length-drop done c.loop-done.packets,
      length-take-le n (drop done c.loop-done.packets) (omega (
        arith,
        c.run_packets.ensures.within,
        length-drop done c.loop-done.packets,
      )),
    )

pub loop-done-preserved : goal.loop-done-preserved
loop-done-preserved c =
    let h = c.loop-done.invariant in
    let done = c.loop-done.done in
    let end : ℕ = done + c.run_packets.result in
    let n : ℕ = end - done in
    let old = c.args.packets.now in
    let cur = c.loop-done.packets in
    let new = c.run-filled.new.packets in
    let sum : done + n ≡ end = omega arith in
    let part : List (List ℕ) = take n (drop done old) in
    let is : take n (drop done cur) ≡ part = ap (take n) h.rest in
    let within : end ≤ length old =
    omega (arith, h.within, h.long, c.run_packets.ensures.within, length-drop done cur) in
    let size : length part ≡ n = length-take-le n (drop done old) (omega (arith, within, length-drop done old)) in
    let long : length new ≡ n = c.run-filled.auto.packets ∙ ap length is ∙ size in
    let so_far : done ≤ length cur = omega (arith, h.within, h.long) in
    let filled : c.run-filled.result ≡ placeholders part = c.run-filled.ensures.filled ∙ ap placeholders is in
    let given : c.run-filled.new.self.given ≡ c.args.self.now.given + end =
    omega (arith, c.run-filled.ensures.given, h.given, ap length is, size, sum) in
    record {
      within = within;
      whole = λ more. omega (
        arith,
        more,
        given,
        c.requires.open,
        h.whole (omega (arith, more, sum)),
        h.given,
        c.run_packets.ensures.whole (omega (arith, more, h.long, length-drop done cur)),
      );
      long = length-put_mid done n cur new (omega (arith, sum, within, h.long)) long ∙ h.long;
      given = given;
      rest = drop-put_mid done n cur new end (omega (arith, sum)) so_far long
          ∙ rest_on old cur done n end sum h.rest;
      filled = filled_on old done n end c.loop-done.filled c.run-filled.result sum h.filled filled;
      few = omega (arith, h.few, filled, placeholders-few part, size, sum);
      stands = λ plan stream stands.
          subst (StandsFor plan c.run-filled.new.self) (part_on stream old done n end sum)
          (subst (λ g. StandsFor plan c.run-filled.new.self ((stream ++ take done old) ++ g)) is
          (c.run-filled.ensures.stands plan (stream ++ take done old) (h.stands plan stream stands)));
      fed = λ plan stream stands.
          let front : List (List ℕ) = stream ++ take done old in
          take-put_mid done n cur new end (omega (arith, sum, long)) so_far
          ∙ fed_on plan stream (take done old) part (stream ++ take end old) (take done cur) new
          (part_on stream old done n end sum) (h.fed plan stream stands)
          (subst (λ g. new ≡ drop (length front) (feed plan (front ++ g))) is
          (c.run-filled.ensures.fed plan front (h.stands plan stream stands)));
    }

pub returns : goal.returns
returns c =
    let h = c.loop-done.invariant in
    let done = c.loop-done.done in
    let old = c.args.packets.now in
    let cur = c.loop-done.packets in
    let all : length old ≤ done = omega (arith, h.long, c.loop-done-test.false) in
    let whole : take done old ≡ old = take_all done old all in
    record {
      fed = λ plan stream stands.
          sym (take_all done cur (omega (arith, all, h.long))) ∙ h.fed plan stream stands
          ∙ ap (λ front. drop (length stream) (feed plan (stream ++ front))) whole;
      filled = h.filled ∙ ap placeholders whole;
      stands = λ plan stream stands.
          subst (λ front. StandsFor plan c.loop-done.self (stream ++ front)) whole (h.stands plan stream stands);
      given = omega (arith, h.given, h.within, all);
    }
