use Rattle.std.proofs.Common.{◌≡◌, ℕ, ℤ, ◌+◌, ◌%◌, List, ◌++◌, ◌∷◌, [], length, IfSome, sym, ap, subst, ◌∙◌}
use Rattle.std.proofs.Common.{arith}
use Rattle.dtx_receiver.specs.Runs.{begun, tracked}
use Rattle.dtx_receiver.specs.declared.batch.Received.{Received}
use Rattle.dtx_receiver.specs.declared.tracking.Tracking.TheVariants.{Began}
use Rattle.dtx_repeat.proofs.GoingOnLemmas.{Begins, GoesOn, Steps, begins_one, given_stays, goes_on, one_more}
use Rattle.dtx_repeat.specs.Repeater.{StandsFor, given_behind, next_place}
use Rattle.dtx_repeat.specs.Restored.{restored_so_far}
use Rattle.dtx_repeat.proofs.Refilled.{refilled}
use Rattle.dtx_repeat.proofs.RestoredLemmas.{length-restored}
use Rattle.dtx_repeat.proofs.repeater.Repeater.take.Goals as goal

pub returns-then-begun-gt0 : goal.returns-then-begun-gt0
returns-then-begun-gt0 c =
    let taken = c.take-tracking.ensures in
    let x = c.args.segment.now in
    let items = c.take-tracking.new.batch.packets.items in
    let one : begun c.take-tracking.result ≡ 1 =
    omega (arith, c.begun.ensures.begun, c.begun.ensures.one, c.if-begun-gt0.true) in
    let began : c.take-tracking.result ≡ Began = begins_one c.take-tracking.result one in
    let begin : (a d : ℕ) (s : List (List ℤ)) (given : List (List ℕ)) → StandsFor a d c.args.self.now s given
    → Begins s (s ++ x ∷ []) x items =
    λ a d s given h.
    subst (Steps s x c.args.self.now.place items) (sym (taken.answer s h.receiver) ∙ began)
    (one_more s x c.args.self.now.place items h.place (taken.packets s h.receiver)) in
    record {
      answer = λ a d s given h. taken.answer s h.receiver;
      stands = λ a d s given h.
          subst (λ t. StandsFor a d (record {
            receiver = c.take-tracking.new.self;
            place = c.place_behind-self.result;
            exciter = c.reset.new.self;
          }) (s ++ x ∷ []) (given_behind t given)) (sym began) (record {
            receiver = taken.stands s h.receiver;
            place = subst (λ (n : ℕ). IfSome (tracked (s ++ x ∷ [])).run (λ run. n ≡ next_place run))
                (sym c.place_behind-self.ensures) (begin a d s given h).place;
            exciter = c.reset.ensures a d given h.exciter;
          });
      packets = λ a d s given h.
          (begin a d s given h).behind ∙ ap (λ z. restored_so_far s ++ z) (sym (begin a d s given h).nothing);
      few = taken.few;
    }

pub returns-else-begun-gt0 : goal.returns-else-begun-gt0
returns-else-begun-gt0 c =
    let taken = c.take-tracking.ensures in
    let x = c.args.segment.now in
    let p = c.args.self.now.place in
    let items = c.take-tracking.new.batch.packets.items in
    let none : begun c.take-tracking.result ≡ 0 = omega (arith, c.begun.ensures.begun, c.if-begun-gt0.false) in
    let same = refilled p items c.as_mut_slice.result.now c.restore-self.new.packets c.as_mut_slice.ensures.value
    c.restore-self.ensures.packets in
    let place : c.restore-self.result ≡ (p + length items) % 624 =
    c.restore-self.ensures.place ∙ ap (λ (ps : List Received). (p + length ps) % 624) c.as_mut_slice.ensures.value in
    let step : (a d : ℕ) (s : List (List ℤ)) (given : List (List ℕ)) → StandsFor a d c.args.self.now s given
    → GoesOn s (s ++ x ∷ []) p items =
    λ a d s given h.
    goes_on s x p items c.take-tracking.result none
    (subst (Steps s x p items) (sym (taken.answer s h.receiver))
    (one_more s x p items h.place (taken.packets s h.receiver))) in
    record {
      answer = λ a d s given h. taken.answer s h.receiver;
      stands = λ a d s given h.
          subst (StandsFor a d (record {
            receiver = c.take-tracking.new.self;
            place = c.restore-self.result;
            exciter = c.args.self.now.exciter;
          }) (s ++ x ∷ [])) (sym (given_stays given c.take-tracking.result none)) (record {
            receiver = taken.stands s h.receiver;
            place = subst (λ (n : ℕ). IfSome (tracked (s ++ x ∷ [])).run (λ run. n ≡ next_place run)) (sym place)
                (step a d s given h).place;
            exciter = h.exciter;
          });
      packets = λ a d s given h. (step a d s given h).behind ∙ ap (λ z. restored_so_far s ++ z) (sym same);
      few = omega (arith, ap length same, length-restored p items, taken.few);
    }
