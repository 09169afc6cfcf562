use Rattle.std.proofs.Common.{ℤ, List, [], ◌∷◌, ◌++◌, ◌≡◌, subst}
use Rattle.dtx_erase.specs.Mended.{mended_run_early}
use Rattle.dtx_erase.specs.Sides.{Decodes}
use Rattle.dtx_erase.proofs.decoder.MendDecoderRunDecoder.take.Goals as goal

pub returns-clause-stands : goal.returns-clause-stands
returns-clause-stands c = λ run d e.
    rw (← c.as_bytes.ensures) (c.take_all.ensures.stands run d e)

pub returns-clause-packets : goal.returns-clause-packets
returns-clause-packets c = λ run d e.
    rw (← c.as_bytes.ensures) (c.take_all.ensures.packets run d e)
