use Rattle.std.proofs.Common.{subst, ◌∙◌}
use Rattle.dtx_outside.proofs.Files.{AreAllBytes, ConsistOfBytes-files_in}
use Rattle.dtx_outside.proofs.held.known.Goals as goal

pub loop-file-init : goal.loop-file-init
loop-file-init c =
    subst AreAllBytes (c.into_iter-file-iterator.ensures.into_iter_gives ∙ c.values-file-items.ensures.rest)

pub loop-file-preserved : goal.loop-file-preserved
loop-file-preserved c =
    λ are. c.loop-file.invariant (rw (c.in-Some.ensures.steps, ← c.deref.ensures.value) (c.are_bytes.ensures, are))

pub returns : goal.returns
returns c = ConsistOfBytes-files_in c.args.held.now (c.loop-file.invariant (rw c.in-None.ensures.steps.0 tt))
