use Rattle.std.proofs.Common.{map, sym, ap, subst}
use Rattle.std.specs.Option.{unwrap_or}
use Rattle.dtx_outer.specs.Outer.{Held}
use Rattle.dtx_coder.specs.Stream.{coded_from}
use Rattle.dtx_coder.specs.Groups.{Coding, Group, IsAtsc, IsCoded, bytes_of}
use Rattle.dtx_coder.proofs.Packets.{atsc_after}
use Rattle.dtx_coder.proofs.BatchesLemmas.{sent_coded}
use Rattle.dtx_coder.proofs.coder.Coder.group.Goals as goal

pub invariant_of-self : goal.invariant_of-self
invariant_of-self c =
    subst IsAtsc (sym c.code_packets.ensures.outer)
    (atsc_after c.self.inside.outer (coded_from c.args.first (map (λ p. p.0) c.args.packets.now)) c.self.invariant)

pub returns : goal.returns
unfolding bytes_of
returns c =
    let old : Coding = record {
      states = c.self.inside.sender.twelve;
      last = c.self.inside.sender.last;
      branches = c.self.inside.outer.branches;
    } in
    let given : Coding → Group = λ v. record {
      first = c.args.first;
      second = c.args.second;
      sync = c.args.sync;
      from = unwrap_or c.args.preset v.states;
      packets = map (λ p. p.0) c.args.packets.now;
    } in
    let new : Coding = record {
      states = c.send.new.self.twelve;
      last = c.send.new.self.last;
      branches = c.code_packets.new.outer.branches;
    } in
    subst (λ (v : Coding). IsCoded v (given v) new c.send.new.air.segments c.send.new.air.symbols) c.self.view_is
    (sent_coded old (given old) c.code_packets.new.bytes c.code_packets.new.outer.branches new
    c.send.new.air.segments c.send.new.air.symbols c.code_packets.ensures.bytes
    (ap (λ (o : Held). o.branches) c.code_packets.ensures.outer)
    (c.send.ensures c.code_packets.new.outer.branches))
