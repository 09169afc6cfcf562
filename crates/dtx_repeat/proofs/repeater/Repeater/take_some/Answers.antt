use Rattle.std.proofs.Common.{◌≡◌, ℕ, ℤ, ◌+◌, ◌%◌, List, [], ◌++◌, length, take, get_or, IfSome, sym, ap, subst, ◌∙◌}
use Rattle.std.proofs.Common.{arith}
use Rattle.dtx_receiver.specs.Runs.{tracked}
use Rattle.dtx_receiver.specs.Bytes.{symbols_in, symbols_of}
use Rattle.dtx_receiver.specs.declared.batch.Received.{Received}
use Rattle.dtx_repeat.specs.Repeater.{StandsFor, given_with, next_place}
use Rattle.dtx_repeat.specs.Restored.{restored_so_far}
use Rattle.dtx_repeat.specs.declared.repeater.Repeater.{Repeater}
use Rattle.dtx_repeat.proofs.GoingOnLemmas.{GoesOn, Begins}
use Rattle.dtx_repeat.proofs.Refilled.{refilled}
use Rattle.dtx_repeat.proofs.RestoredLemmas.{length-restored}
use Rattle.dtx_repeat.proofs.SeveralLemmas.{begins_first, goes_on_all}
use Rattle.dtx_repeat.proofs.repeater.Repeater.take_some.Goals as goal

pub returns-then-progress-gt0 : goal.returns-then-progress-gt0
returns-then-progress-gt0 c =
    let taken = c.take_some-progress.ensures in
    let n : ℕ = c.take_some-progress.result.segments in
    let segments = c.args.segments.now in
    let items = c.take_some-progress.new.batch.packets.items in
    let one : n ≡ 1 = taken.alone c.if-progress-gt0.true in
    let begins : c.take_some-progress.result.runs ≡ 1 = omega (arith, one, taken.few_runs, c.if-progress-gt0.true) in
    let new : Repeater = record {
      receiver = c.take_some-progress.new.self;
      place = c.place_behind_bytes-self.result;
      exciter = c.reset.new.self;
    } in
    let begun : (a d : ℕ) (s : List (List ℤ)) (given : List (List ℕ)) → StandsFor a d c.args.self.now s given
    → Begins s (s ++ symbols_in (take n segments)) (symbols_of (get_or segments 0 [])) items =
    λ a d s given h. begins_first s segments n c.take_some-progress.result.runs c.args.self.now.place items c.requires
    one begins h.place (taken.runs s h.receiver) (taken.packets s h.receiver) in
    record {
      some = taken.some;
      within = taken.within;
      alone = taken.alone;
      few_runs = omega (arith, begins);
      stands = λ a d s given h.
          let next : List (List ℤ) = s ++ symbols_in (take n segments) in
          subst (λ (runs : ℕ). StandsFor a d new next (given_with runs given)) (sym begins) (record {
            receiver = taken.stands s h.receiver;
            place = subst (λ (k : ℕ). IfSome (tracked next).run (λ run. k ≡ next_place run))
                (sym c.place_behind_bytes-self.ensures) (begun a d s given h).place;
            exciter = c.reset.ensures a d given h.exciter;
          });
      packets = λ a d s given h.
          (begun a d s given h).behind ∙ ap (λ z. restored_so_far s ++ z) (sym (begun a d s given h).nothing);
      runs = λ a d s given h. taken.runs s h.receiver;
      few = taken.few;
    }

pub returns-else-progress-gt0 : goal.returns-else-progress-gt0
returns-else-progress-gt0 c =
    let taken = c.take_some-progress.ensures in
    let p = c.args.self.now.place in
    let items = c.take_some-progress.new.batch.packets.items in
    let none : c.take_some-progress.result.runs ≡ 0 = omega (arith, c.if-progress-gt0.false) in
    let more : List (List ℤ) = symbols_in (take c.take_some-progress.result.segments c.args.segments.now) in
    let new : Repeater = record {
      receiver = c.take_some-progress.new.self;
      place = c.restore-self.result;
      exciter = c.args.self.now.exciter;
    } in
    let same = refilled p items c.as_mut_slice.result.now c.restore-self.new.packets c.as_mut_slice.ensures.value
    c.restore-self.ensures.packets in
    let place : c.restore-self.result ≡ (p + length items) % 624 =
    c.restore-self.ensures.place ∙ ap (λ (ps : List Received). (p + length ps) % 624) c.as_mut_slice.ensures.value in
    let step : (a d : ℕ) (s : List (List ℤ)) (given : List (List ℕ)) → StandsFor a d c.args.self.now s given
    → GoesOn s (s ++ more) p items =
    λ a d s given h.
    goes_on_all more s p items h.place (omega (arith, taken.runs s h.receiver, none)) (taken.packets s h.receiver) in
    record {
      some = taken.some;
      within = taken.within;
      alone = taken.alone;
      few_runs = omega (arith, none);
      stands = λ a d s given h.
          subst (λ (n : ℕ). StandsFor a d new (s ++ more) (given_with n given)) (sym none) (record {
            receiver = taken.stands s h.receiver;
            place = subst (λ (n : ℕ). IfSome (tracked (s ++ more)).run (λ run. n ≡ next_place run)) (sym place)
                (step a d s given h).place;
            exciter = h.exciter;
          });
      packets = λ a d s given h. (step a d s given h).behind ∙ ap (λ z. restored_so_far s ++ z) (sym same);
      runs = λ a d s given h. taken.runs s h.receiver;
      few = omega (arith, ap length same, length-restored p items, taken.few);
    }
