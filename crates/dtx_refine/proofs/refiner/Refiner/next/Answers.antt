use Rattle.std.proofs.Common.{◌-◌, refl, sym, ap, ◌∙◌, subst, arith}
use Rattle.dtx_acquire.specs.Acquired.{acquired}
use Rattle.dtx_rounds.specs.Rounds.{fields_in, heard_of, refined}
use Rattle.dtx_rounds.proofs.SoFarLemmas.{refined_long}
use Rattle.dtx_refine.specs.Refiner.{HasEnded, HasStepped, Refining, refining}
use Rattle.dtx_refine.proofs.Ends.{AreSums, ended_next, over, stepped_next}
use Rattle.dtx_refine.proofs.Steps.{given_some}
use Rattle.dtx_refine.proofs.refiner.Refiner.next.Goals as goal

pub returns-clause-ended : goal.returns-clause-ended
returns-clause-ended c = λ symbols before h.
    let was = subst (λ (x : Refining). HasEnded x symbols before) (sym c.self.view_is) h in
    ended_next c.self.inside.acquirer c.self.inside.passes c.next.new.self c.self.inside.ended symbols before was
    (c.next.ensures.ended c.self.inside.acquirer.scale symbols was.passed) c.next.ensures.count c.next.ensures.held

pub returns-clause-all : goal.returns-clause-all
returns-clause-all c = λ symbols before h e.
    let scale = c.self.inside.acquirer.scale in
    let was = subst (λ (x : Refining). HasEnded x symbols before) (sym c.self.view_is) h in
    let one = c.next.ensures.ended scale symbols was.passed in
    let last = refined scale symbols (c.next.new.self.count - 1) in
    let sums : AreSums scale (heard_of symbols) last = record {
      known = λ field each. c.the_numbers_of_a_round_are_those_of_its_fields.ensures.known scale (heard_of symbols)
          last field (refined_long scale (c.next.new.self.count - 1) symbols) each;
      cost = c.the_numbers_of_a_round_are_those_of_its_fields.ensures.cost scale (heard_of symbols) last;
      moved = c.the_numbers_of_a_round_are_those_of_its_fields.ensures.moved scale (heard_of symbols) last;
    } in
    over c.self.inside.acquirer c.next.new.self c.self.inside.ended symbols (one.all e) one.given.passed sums

pub returns-clause-some : goal.returns-clause-some
returns-clause-some c = λ symbols before h e.
    let scale = c.self.inside.acquirer.scale in
    let was = subst (λ (x : Refining). HasEnded x symbols before) (sym c.self.view_is) h in
    given_some scale (fields_in (acquired scale symbols)) symbols c.self.inside.passes c.next.new.self
    (c.next.ensures.ended scale symbols was.passed).given refl e

pub returns-clause-stepped : goal.returns-clause-stepped
returns-clause-stepped c =
    subst (λ (x : Refining). HasStepped x (refining c.self.inside.acquirer c.next.new.self c.self.inside.ended)
    c.next.new.self.gives) c.self.view_is
    (stepped_next c.self.inside.acquirer c.self.inside.passes c.next.new.self c.self.inside.ended
    (ap (λ (x : Refining). x.ended) c.self.view_is ∙ c.requires) c.next.ensures.count c.next.ensures.held
    c.next.ensures.less)

pub next-requires : goal.next-requires
next-requires c = omega (arith, c.self.invariant.0, c.self.invariant.1, c.self.invariant.2)

pub invariant_of-self : goal.invariant_of-self
invariant_of-self c = (
  c.self.invariant.0,
  c.self.invariant.1,
  omega (arith, c.self.invariant.2, c.next.ensures.total),
)
