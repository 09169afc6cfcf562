use Rattle.std.proofs.Common.{◌≡◌, ◌+◌, ◌*◌, ◌/◌, length, sym, ◌∙◌, arith}
use Rattle.dtx_coder.proofs.CountsLemmas.{length-a53}
use Rattle.dtx_jobs.proofs.stream_coder.segments_of.Goals as goal

pub returns : goal.returns
returns c = λ stream long.
    let same : 4 * (c.args.packets / 4) + c.div_ceil.result
    ≡ 4 * (length stream / 4) + (length stream / 4 + 77) / 78 = omega (arith, c.div_ceil.ensures, long) in
    same ∙ sym (length-a53 stream)
