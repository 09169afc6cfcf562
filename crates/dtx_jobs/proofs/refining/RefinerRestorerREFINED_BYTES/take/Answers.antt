use Rattle.std.proofs.Common.{ap₂, length-append, take, arith}
use Rattle.std.proofs.lemmas.List.{length-take-le}
use Rattle.dtx_recipes.specs.Refine.{with_refiner}
use Rattle.dtx_jobs.proofs.refining.RefinerRestorerREFINED_BYTES.take.Goals as goal

pub take-requires : goal.take-requires
take-requires c = omega (arith, c.requires.most.1.count, c.requires.most.2)

pub returns-clause-some : goal.returns-clause-some
returns-clause-some c = λ before is. c.take.ensures.some before is.stands

pub returns-clause-stands : goal.returns-clause-stands
returns-clause-stands c = λ before is. record {
  stands = c.take.ensures.stands before is.stands;
  count = omega (
    arith,
    c.take.ensures.symbols,
    is.count,
    length-append before (take c.take.result c.args.symbols.now),
    length-take-le c.take.result c.args.symbols.now c.take.ensures.within,
  );
  few = omega (arith, c.take.ensures.rounds, is.few);
}

pub returns-clause-made : goal.returns-clause-made
returns-clause-made c = λ before is. c.take.ensures.given before is.stands

pub returns-clause-kept : goal.returns-clause-kept
returns-clause-kept c = ap₂ with_refiner c.take.ensures.scale c.take.ensures.rounds
