use Rattle.std.proofs.Common.{sym, ap, subst}
use Rattle.dtx_outer.specs.Outer.{Held}
use Rattle.dtx_coder.specs.Stream.{coded_from}
use Rattle.dtx_coder.specs.Groups.{Coding, IsAtsc}
use Rattle.dtx_coder.specs.Batches.{IsAhead}
use Rattle.dtx_coder.proofs.Packets.{atsc_after}
use Rattle.dtx_coder.proofs.coder.Coder.interleave.Goals as goal

pub invariant_of-self : goal.invariant_of-self
invariant_of-self c =
    subst IsAtsc (sym c.interleave_packets.ensures.outer)
    (atsc_after c.self.inside.outer (coded_from c.args.first c.args.packets.now) c.self.invariant)

pub returns : goal.returns
returns c =
    let new : Coding = record {
      states = c.self.inside.sender.twelve;
      last = c.self.inside.sender.last;
      branches = c.interleave_packets.new.outer.branches;
    } in
    subst (λ (v : Coding). IsAhead v c.args.first c.args.packets.now c.interleave_packets.new.bytes new) c.self.view_is
    (record {
      left = c.interleave_packets.ensures.bytes;
      coder = ap (λ (o : Held). record {
        states = c.self.inside.sender.twelve;
        last = c.self.inside.sender.last;
        branches = o.branches;
      }) c.interleave_packets.ensures.outer;
    })
