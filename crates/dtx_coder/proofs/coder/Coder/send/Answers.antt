use Rattle.std.proofs.Common.{subst}
use Rattle.std.specs.Option.{unwrap_or}
use Rattle.dtx_coder.specs.Groups.{Coding}
use Rattle.dtx_coder.specs.Batches.{InterleavedGroup, IsSent}
use Rattle.dtx_coder.proofs.coder.Coder.send.Goals as goal

pub returns : goal.returns
returns c =
    let given : Coding → InterleavedGroup = λ v. record {
      first = c.args.first;
      second = c.args.second;
      sync = c.args.sync;
      from = unwrap_or c.args.preset v.states;
      bytes = c.args.bytes.now;
    } in
    let new : Coding = record {
      states = c.send.new.self.twelve;
      last = c.send.new.self.last;
      branches = c.self.inside.outer.branches;
    } in
    subst (λ (v : Coding). IsSent v (given v) new c.send.new.air.segments c.send.new.air.symbols) c.self.view_is
    (c.send.ensures c.self.inside.outer.branches)
