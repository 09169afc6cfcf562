use Rattle.std.proofs.Common.{◌/◌, ℤ, List, length, take, ap, ◌∙◌, arith}
use Rattle.std.specs.Simd.{first_chunks}
use Rattle.dtx_acquire.specs.Acquirer.{Holding}
use Rattle.dtx_acquire.proofs.Chunks.{chunks_are}
use Rattle.dtx_acquire.proofs.acquirer.Acquirer.heard.Goals as goal

pub returns : goal.returns
returns c =
    let count = c.self.inside.giver.count in
    let held = c.self.inside.held in
    ap (take count) c.as_chunks.ensures.front
    ∙ ap (λ (xs : List ℤ). take count (first_chunks 832 (length xs / 832) xs)) c.all.ensures
    ∙ chunks_are held count (length held / 832) (omega (arith, c.self.invariant.whole))
    ∙ ap (λ (x : Holding). x.heard) c.self.view_is
