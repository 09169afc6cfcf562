use Rattle.std.proofs.Common.{ℤ, true, List, length, sym, ap, ◌∙◌, subst, arith}
use Rattle.dtx_refine.specs.Refiner.{HasStepped, Refining, StandsFor, refining}
use Rattle.dtx_refine.proofs.Ends.{HasEndedSymbols, ended_now, some_now, stepped_end}
use Rattle.dtx_refine.proofs.refiner.Refiner.end.Goals as goal

-- what both calls say
symbols_ended : (c : goal.After-take) (symbols : List ℤ)
    → StandsFor (refining c.self.inside.acquirer c.self.inside.passes c.self.inside.ended) symbols
    → HasEndedSymbols c.self.inside.acquirer c.finish.new.self c.self.inside.passes c.take.new.self symbols
symbols_ended c symbols was = record {
  given = c.finish.ensures.given symbols was.acquirer;
  heard = c.finish.ensures.heard symbols was.acquirer;
  few = c.finish.ensures.few;
  same = c.finish.ensures.same;
  taken = c.take.ensures.taken;
  held = c.take.ensures.held;
  scale_is = c.finish.ensures.scale;
  count_is = c.take.ensures.count;
  runs_are = c.finish.ensures.runs symbols was.acquirer;
  segments_are = c.finish.ensures.segments symbols was.acquirer;
}

pub returns-clause-ended : goal.returns-clause-ended
returns-clause-ended c = λ symbols h.
    let was = subst (λ (x : Refining). StandsFor x symbols) (sym c.self.view_is) h in
    ended_now c.self.inside.acquirer c.finish.new.self c.self.inside.passes c.take.new.self c.self.inside.ended symbols
    was (symbols_ended c symbols was)

pub returns-clause-some : goal.returns-clause-some
returns-clause-some c = λ symbols h e.
    let was = subst (λ (x : Refining). StandsFor x symbols) (sym c.self.view_is) h in
    some_now c.self.inside.acquirer c.finish.new.self c.self.inside.passes c.take.new.self c.self.inside.ended symbols
    was (symbols_ended c symbols was) e

pub returns-clause-stepped : goal.returns-clause-stepped
returns-clause-stepped c =
    subst (λ (x : Refining). HasStepped x (refining c.finish.new.self c.take.new.self true) c.take.new.self.gives)
    c.self.view_is
    (stepped_end c.self.inside.acquirer c.finish.new.self c.self.inside.passes c.take.new.self c.self.inside.ended
    (ap (λ (x : Refining). x.ended) c.self.view_is ∙ c.requires) c.finish.ensures.scale c.finish.ensures.symbols
    c.take.ensures.count c.take.ensures.held c.take.ensures.still)

pub take-requires-clause-room : goal.take-requires-clause-room
take-requires-clause-room c =
    omega (arith, c.self.invariant.0, c.self.invariant.1, c.self.invariant.2, c.finish.ensures.few)

pub invariant_of-self : goal.invariant_of-self
invariant_of-self c = (
  omega (
    arith,
    c.self.invariant.0,
    c.finish.ensures.total,
    c.finish.ensures.room,
    c.finish.ensures.symbols,
    ap length c.finish.ensures.held,
  ),
  omega (arith, c.self.invariant.1, c.finish.ensures.symbols),
  omega (arith, c.self.invariant.2, c.finish.ensures.total, c.take.ensures.total),
)
