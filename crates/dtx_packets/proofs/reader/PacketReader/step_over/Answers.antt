use Rattle.std.proofs.Common.{◌+◌, ◌/◌, refl, ap, arith, rules}
use Rattle.dtx_packets.specs.Reading.{Reading}
use Rattle.dtx_packets.proofs.reader.PacketReader.step_over.Goals as goal

pub invariant_of-self-2 : goal.invariant_of-self-2
invariant_of-self-2 c = search rules

pub returns : goal.returns
returns c = (
  refl,
  λ e. absurd (c.if-count-eq0.false e),
  λ _. (
    omega (arith, c.left.ensures, c.if-left-eq0.false),
    ap (λ (r : Reading). record r { given = r.given + c.args.filled / 188; loose = 0 }) c.self.view_is,
  ),
)

pub returns-then-left-eq0 : goal.returns-then-left-eq0
returns-then-left-eq0 c = search rules
