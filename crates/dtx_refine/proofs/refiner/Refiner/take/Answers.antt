use Rattle.std.proofs.Common.{ℤ, ◌≡◌, ◌+◌, ◌≤◌, List, ◌++◌, length, take, sym, ap, ◌∙◌, subst, arith}
use Rattle.dtx_rounds.specs.Rounds.{refined_so_far}
use Rattle.dtx_rounds.proofs.SoFarLemmas.{refined_front}
use Rattle.dtx_refine.specs.Refiner.{given_of, Refining, StandsFor, refining}
use Rattle.dtx_refine.proofs.Takes.{HasTakenSymbols, few_whole, given_now, given_within, stands_now}
use Rattle.dtx_refine.proofs.refiner.Refiner.take.Goals as goal

-- the refiner by its parts
stood : (c : goal.After-take) (before : List ℤ) → StandsFor c.args.self.now before
    → StandsFor (refining c.self.inside.acquirer c.self.inside.passes c.self.inside.ended) before
stood c before h = subst (λ (x : Refining). StandsFor x before) (sym c.self.view_is) h

took : (c : goal.After-take) (before : List ℤ) → StandsFor c.args.self.now before
    → HasTakenSymbols c.self.inside.acquirer c.take-count.new.self c.self.inside.passes c.take.new.self before
    (before ++ take c.take-count.result c.args.symbols.now)
took c before h =
    let was = stood c before h in
    record {
      stands = c.take-count.ensures.stands before was.acquirer;
      so_far = c.take-count.ensures.given before was.acquirer;
      heard = c.take-count.ensures.heard before was.acquirer;
      whole = c.take-count.ensures.whole;
      same = c.take-count.ensures.same;
      taken = c.take.ensures.taken;
      scale_is = c.take-count.ensures.scale;
      count_is = c.take.ensures.count;
    }

pub returns-clause-some : goal.returns-clause-some
returns-clause-some c = λ before h l. c.take-count.ensures.some before (stood c before h).acquirer l

pub returns-clause-stands : goal.returns-clause-stands
returns-clause-stands c = λ before h.
    stands_now c.self.inside.acquirer c.take-count.new.self c.self.inside.passes c.take.new.self c.self.inside.ended
    before (take c.take-count.result c.args.symbols.now) (stood c before h) (took c before h)

pub returns-clause-given : goal.returns-clause-given
returns-clause-given c = λ before h.
    let more = take c.take-count.result c.args.symbols.now in
    subst (λ (x : Refining). refined_so_far x.scale (before ++ more) x.rounds
    ≡ refined_so_far x.scale before x.rounds ++ given_of c.take.new.self) c.self.view_is
    (given_now c.self.inside.acquirer c.take-count.new.self c.self.inside.passes c.take.new.self c.self.inside.ended
    before more (stood c before h) (took c before h)
    (refined_front c.self.inside.acquirer.scale c.self.inside.passes.count before more))

pub returns-clause-room : goal.returns-clause-room
returns-clause-room c =
    omega (
      arith,
      c.take-count.ensures.room,
      ap (λ (x : Refining). length x.held) c.self.view_is,
      given_within c.take.new.self c.take-count.new.self.given c.take.ensures.some c.take-count.ensures.whole,
    )

pub returns-clause-scale : goal.returns-clause-scale
returns-clause-scale c = c.take-count.ensures.scale ∙ ap (λ (x : Refining). x.scale) c.self.view_is

pub returns-clause-rounds : goal.returns-clause-rounds
returns-clause-rounds c = c.take.ensures.count ∙ ap (λ (x : Refining). x.rounds) c.self.view_is

pub returns-clause-symbols : goal.returns-clause-symbols
returns-clause-symbols c =
    c.take-count.ensures.symbols ∙ ap (λ (x : Refining). x.symbols + c.take-count.result) c.self.view_is

pub take-count-requires : goal.take-count-requires
take-count-requires c = record {
  most = subst (λ (x : Refining). x.symbols + length c.args.symbols.now ≤ 520832000000) (sym c.self.view_is)
      c.requires.most;
}

pub take-requires-clause-few : goal.take-requires-clause-few
take-requires-clause-few c = few_whole c.take-count.new.self.given c.take-count.ensures.whole

pub take-requires-clause-room : goal.take-requires-clause-room
take-requires-clause-room c =
    omega (
      arith,
      subst (λ (x : Refining). x.symbols + length c.args.symbols.now ≤ 520832000000) (sym c.self.view_is)
          c.requires.most,
      c.self.invariant.0,
      c.self.invariant.2,
      c.take-count.ensures.total,
      c.take-count.ensures.room,
      c.take-count.ensures.within,
    )

pub invariant_of-self : goal.invariant_of-self
invariant_of-self c = (
  omega (
    arith,
    c.self.invariant.0,
    c.take-count.ensures.total,
    c.take-count.ensures.room,
    c.take-count.ensures.symbols,
  ),
  omega (
    arith,
    subst (λ (x : Refining). x.symbols + length c.args.symbols.now ≤ 520832000000) (sym c.self.view_is)
        c.requires.most,
    c.take-count.ensures.symbols,
    c.take-count.ensures.within,
  ),
  omega (arith, c.self.invariant.2, c.take-count.ensures.total, c.take.ensures.total),
)
