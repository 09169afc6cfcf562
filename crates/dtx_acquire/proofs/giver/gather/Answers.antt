use Rattle.std.proofs.Common.{◌+◌, ◌*◌, [], drop, take, length, arith}
use Rattle.std.proofs.lemmas.List.FromFn.{fill_by_all}
use Rattle.dtx_acquire.specs.Acquired.{segments_from}
use Rattle.dtx_acquire.proofs.giver.gather.Goals as goal

pub returns : goal.returns
unfolding segments_from
returns c =
    fill_by_all (λ i. take 832 (drop (0 + 832 * i) c.args.symbols.now)) c.loop-i.segments
    (length c.args.segments.now) [] c.loop-i.invariant.long
    (λ k l. c.loop-i.invariant.done k (omega (arith, l, c.loop-i.invariant.long)))
