use Rattle.std.proofs.Common.{rules, ◌/◌, ap, sym, arith}
use Rattle.dtx_outer.specs.Inner.{Kept}
use Rattle.dtx_outer.proofs.Coding.{packet_within}
use Rattle.dtx_outer.proofs.Runs.{next_waiting, next_given}
use Rattle.dtx_outer.proofs.inner.Inner.give_next.Goals as goal

pub invariant_of-self : goal.invariant_of-self
invariant_of-self g c = c.self.invariant

pub returns-then-self-gt0-clause-kept : goal.returns-then-self-gt0-clause-kept
returns-then-self-gt0-clause-kept g c =
    next_waiting g.row.K
    (record {
      white = g.W.Whitener.bytes c.self.inside.whitener;
      branches = g.G.Gather.seen c.self.inside.gather;
      before = c.self.inside.before;
      waits = c.self.inside.waits;
      place = c.self.inside.place;
    })
    c.args.self.now c.self.view_is c.if-self-gt0.true

pub following-self-inside-requires : goal.following-self-inside-requires
following-self-inside-requires g c = record { some = c.requires.some; within = c.self.invariant.1 }

pub give-requires : goal.give-requires
give-requires g c = (
  search rules,
  (
    search rules,
    (
      c.requires,
      packet_within g.row.K c.self.inside.place g.W.Whitener.PERIOD (omega (arith, c.requires.some))
          c.self.invariant.1,
    ),
  ),
)

pub invariant_of-self-2 : goal.invariant_of-self-2
invariant_of-self-2 g c = (c.self.invariant.0, c.following-self-inside.ensures.within)

pub returns-clause-waiting : goal.returns-clause-waiting
returns-clause-waiting g c = λ h.
    absurd (omega (arith, h, c.if-self-gt0.false, ap (λ (d : Kept). d.waits) c.self.view_is))

pub returns-clause-given : goal.returns-clause-given
returns-clause-given g c = λ _ gathered corrected.
    rw (← c.self.view_is) (c.give.ensures gathered corrected)

pub returns-clause-kept : goal.returns-clause-kept
returns-clause-kept g c =
    next_given g.row.K (g.W.Whitener.PERIOD / g.row.K) c.following-self-inside.result
    (record {
      white = g.W.Whitener.bytes c.self.inside.whitener;
      branches = g.G.Gather.seen c.self.inside.gather;
      before = c.self.inside.before;
      waits = c.self.inside.waits;
      place = c.self.inside.place;
    })
    c.args.self.now c.self.view_is c.if-self-gt0.false
    (ap (λ period. period / g.row.K) (sym (g.met.W.Whitener.long c.self.inside.whitener)))
    c.following-self-inside.ensures.next
