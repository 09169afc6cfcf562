-- What a schedule is refused for.
use Rattle.dtx_meaning.specs.Status.{of_write}
use Rattle.dtx_outside.specs.declared.shelf.WriteNo.{WriteNo}
use Rattle.dtx_outside.specs.declared.shelf.WriteNo.TheVariants as write
use Rattle.dtx_schedule.specs.PlayedSoFar.{IsOfFeed}

-- a refusal to write
pub write_of_feed : (cause : WriteNo) → IsOfFeed (of_write cause)
write_of_feed write.Failed = tt
write_of_feed write.Memory = tt
